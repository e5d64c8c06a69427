-- The premise of the law is met, and needed.

use Rattle.std.proofs.Common.{◌≡◌, false, List, [], ◌∷◌, Option, Some, None, refl, ap}
use Rattle.std.specs.List.{slice_get}
use Rattle.ada_program.specs.Form.{in_out_access, no_stmts}
use Rattle.ada_program.specs.ProgramForm.{nowhere}
use Rattle.ada_meaning.specs.declared.state.Mode.TheVariants.{Running}
use Rattle.ada_meaning.specs.declared.state.Value.{Value}
use Rattle.ada_meaning.specs.declared.state.Value.TheVariants.{Null, Names}
use Rattle.ada_meaning.specs.Frame.{Frame}
use Rattle.ada_meaning.specs.Frame as frame
use Rattle.ada_meaning.specs.State.{Activation}
use Rattle.ada_meaning.specs.Step.{moves, places_of}
use Rattle.ada_meaning.specs.Named.{State, Next, next}
use Rattle.ada_waiting.specs.Before.{Waiting, before, NextBefore}
use Rattle.ada_waiting.specs.Example.{GivesBackBefore, PremiseIsMet, PremiseIsNeeded}

-- A body with one variable, which holds this.
abbrev holding : Value → Activation Value
holding v = record { procedure = None; places = v ∷ []; operands = [] }

abbrev given : Value
given = Names (record { 0 = 0 })

-- The one formal parameter gives what it holds back to the first variable of the caller.
abbrev ends_call : Frame Value
ends_call = frame.Returns (in_out_access (record { root = 0; of_record = false; selectors = []; spot = nowhere }) ∷ []) []

abbrev state : List (Activation Value) → List (Frame Value) → State
state activations control = record {
  activations = activations;
  masters = [];
  control = control;
  mode = Running;
  input = [];
  next = 0;
  allocated = 0;
  born = 0;
  heap = [];
}

-- What waits: a body whose variable holds null.
abbrev waiting : Waiting Value
waiting = record { control = frame.Does no_stmts ∷ []; activations = holding Null ∷ [] }

abbrev called : State
called = state (holding given ∷ holding Null ∷ []) (ends_call ∷ frame.Does no_stmts ∷ [])

abbrev back : State
back = state (holding given ∷ []) (frame.Does no_stmts ∷ [])

gives_back : GivesBackBefore [] [] waiting called back 0
unfolding next
gives_back = record {
  runs = tt;
  gives = record {
    running = holding given;
    callers = holding Null ∷ [];
    called = refl;
    ends = refl;
    held = (Null, refl);
    holds = (given, refl);
    differs = λ e. absurd (cc);
  };
  waits = (frame.Does no_stmts, [], refl);
  waits_too = (Null, refl);
  goes_on = refl;
}

pub premise_is_met : PremiseIsMet
premise_is_met = ([], [], waiting, called, back, 0, gives_back)

-- The caller waits.
abbrev alone : State
alone = state (holding given ∷ []) (ends_call ∷ [])

-- What the first variable of the running body holds behind a step.
abbrev first_held : Next → Option Value
first_held (moves event s) = slice_get (places_of s.activations) 0
first_held n = None

caller_gets : NextBefore waiting (next [] [] alone) (next [] [] (before waiting alone)) → ⊥
unfolding next
caller_gets same = let clash : Some given ≡ Some Null = ap first_held same in absurd (cc clash)

pub premise_is_needed : PremiseIsNeeded
premise_is_needed = ([], [], waiting, alone, caller_gets)
