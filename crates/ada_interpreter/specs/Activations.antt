-- Activations, with the places of all of them behind one another.

use Rattle.std.specs.Prelude.{◌≡◌, ℕ, Bool, true, false, List, [], ◌∷◌, take, drop, Option, Some, None}
use Rattle.ada_program.specs.declared.program.ProcedureNo.{ProcedureNo}
use Rattle.ada_program.specs.Form.{ActualForm, in_value, in_null, in_access, in_record, in_out_path, in_out_access, in_out_component, in_out_record}
use Rattle.ada_meaning.specs.declared.state.Value.{Value}
use Rattle.ada_meaning.specs.State.{Activation}
use Rattle.ada_meaning.specs.Step.{first_or, older}
use Rattle.ada_interpreter.specs.declared.activations.Begun.{Begun}

-- The number of a procedure; none for the main body.
abbrev pub number_of : Option ProcedureNo → Option ℕ
number_of None = None
number_of (Some procedure) = Some procedure.0

-- The operands that a caller keeps, where it does: the newest of those that wait.
abbrev pub kept_by : (keeps : Bool) → (waiting : List (List Value)) → List Value
kept_by true waiting = first_or [] waiting
kept_by false waiting = []

-- Those that its own callers keep.
abbrev pub waiting_behind : (keeps : Bool) → (waiting : List (List Value)) → List (List Value)
waiting_behind true waiting = older waiting
waiting_behind false waiting = waiting

-- The activations, the running one first: the places of each are the last ones, from where they begin. The running one has these operands, and a caller those
-- that it keeps.
abbrev pub activations_of : List Begun → (places operands : List Value) → (waiting : List (List Value)) → List (Activation Value)
activations_of [] places operands waiting = []
activations_of (b ∷ bs) places operands waiting =
    record { procedure = number_of b.procedure; places = drop b.base places; operands = operands }
    ∷ activations_of bs (take b.base places) (kept_by b.keeps waiting) (waiting_behind b.keeps waiting)

-- Operands are awaited by the running activation: where nothing runs, there are none.
abbrev pub AreAwaited : List Begun → (operands : List Value) → Type 0
AreAwaited [] operands = operands ≡ []
AreAwaited (b ∷ bs) operands = Unit {0}

-- Is an actual parameter a component, for a formal one of mode `in out`?
abbrev pub is_component : ActualForm → Bool
is_component (in_value e) = false
is_component in_null = false
is_component (in_access path) = false
is_component (in_record p) = false
is_component (in_out_path path) = false
is_component (in_out_access path) = false
is_component (in_out_component path) = true
is_component (in_out_record p) = false
