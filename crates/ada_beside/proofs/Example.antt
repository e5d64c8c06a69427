-- The body of an operation assigns null to the first component of its formal parameter, which is the first one of its object too; another lies beside that
-- record.

use Rattle.std.proofs.Common.{ℕ, zero, suc, Bool, true, false, List, [], ◌∷◌, Some, None, refl, inr}
use Rattle.ada_program.specs.Form.{no_stmts}
use Rattle.ada_meaning.specs.declared.state.Id.{Id}
use Rattle.ada_meaning.specs.declared.state.Mode.TheVariants.{Running}
use Rattle.ada_meaning.specs.declared.state.Stage.TheVariants.{Existing}
use Rattle.ada_meaning.specs.declared.state.Value.{Value}
use Rattle.ada_meaning.specs.declared.state.Value.TheVariants.{Null, Names, Part}
use Rattle.ada_meaning.specs.Event.{Followed}
use Rattle.ada_meaning.specs.Frame as frame
use Rattle.ada_meaning.specs.Step.{places}
use Rattle.ada_meaning.specs.Named.{Object, State, next}
use Rattle.ada_tracked.specs.Frames.{View}
use Rattle.ada_tracked.specs.Seen.{IsWatched}
use Rattle.ada_beside.specs.Law.{LieBeside}
use Rattle.ada_beside.specs.Example.{WritesItsRecord, PremisesAreMet}

-- An object with these components.
abbrev an_object : List Value → Object
an_object vs = record {
  cell = record { access = 0; number = 1; home = record { item = 0; pool = Some 0; subpool = None }; values = vs; parts = [] };
  stage = Existing;
  listed = true;
  out = true;
}

-- The formal parameter lies in this object.
abbrev treated : Id
treated = record { 0 = 0 }

-- Both components of that object name this other one.
abbrev shared : Value
shared = Names (record { 0 = 1 })

-- The record begins with the first component of the object, and nothing is tracked.
abbrev view : View
view = record { tracks = record { first = 1; components = [] }; object = treated; base = 0 }

-- The body may reach the first component of its record.
abbrev reaches : ℕ → Bool
reaches zero = true
reaches (suc c) = false

-- The second component of the object lies beside the record.
abbrev beside : ℕ → Bool
beside zero = false
beside (suc c) = true

-- The first component is about to become null.
abbrev before : State
before = record {
  activations = record { procedure = Some 0; places = Part treated (record { component = 0; part = 0 }) ∷ []; operands = Null ∷ [] } ∷ [];
  masters = [];
  control = frame.StoresIn (Names treated) 0 ∷ frame.Does no_stmts ∷ frame.Returns [] [] ∷ [];
  mode = Running;
  input = [];
  next = 0;
  allocated = 2;
  born = 0;
  heap = an_object (shared ∷ shared ∷ []) ∷ an_object [] ∷ [];
}

-- The first component is null.
abbrev after : State
after = record before {
  activations = record { procedure = Some 0; places = Part treated (record { component = 0; part = 0 }) ∷ []; operands = [] } ∷ [];
  control = frame.Does no_stmts ∷ frame.Returns [] [] ∷ [];
  heap = an_object (Null ∷ shared ∷ []) ∷ an_object [] ∷ [];
}

-- What the body may reach does not lie beside the record.
apart : LieBeside view reaches beside
apart zero reached = refl
apart (suc d) reached = absurd (cc)

-- The object exists, and the formal parameter refers to its record.
watched : IsWatched view (places before) before.heap
watched = record {
  object = an_object (shared ∷ shared ∷ []);
  at_object = refl;
  existing = refl;
  below = tt;
  apart = tt;
  no_references = tt;
  formal = (refl, refl);
  count = refl;
}

-- The step writes the first component, and the second one lies beside it.
writes_its_record : WritesItsRecord [] [] view reaches beside before after
unfolding next
writes_its_record = record {
  apart = apart;
  watched = watched;
  elsewhere = (refl, tt);
  copies = tt;
  within = (refl, tt, tt);
  confined = record { control = (inr (refl, (0, refl, refl)), (tt, tt)); operands = tt };
  steps = (Followed (Names treated), refl);
  writes = (0, λ same. absurd (cc));
  lies_beside = (1, refl, (shared, refl));
}

-- The premises of the law are met.
pub premises_are_met : PremisesAreMet
premises_are_met = ([], [], view, reaches, beside, before, after, writes_its_record)
