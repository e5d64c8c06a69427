-- A program that is not well formed: the body of a procedure declares its formal parameter once more.

use Rattle.ada_formals.specs.Formals.{IsRecordFormal, FormalsStayIn}
use Rattle.ada_formals.specs.Example.{WellFormednessIsNeeded}
use Rattle.std.proofs.Common.{◌≡◌, ◌<◌, ℕ, true, false, List, [], ◌∷◌, ◌++◌, arith, refl, sym, ap, ◌∙◌, subst}
use Rattle.std.specs.Prelude.{Option, Some, None, pos}
use Rattle.std.specs.List.{slice_get}
use Rattle.ada_program.specs.declared.program.Actual.TheVariants as actual
use Rattle.ada_program.specs.declared.program.ComponentKind.TheVariants as kind
use Rattle.ada_program.specs.declared.program.Declaration.{Declaration}
use Rattle.ada_program.specs.declared.program.Declaration.TheVariants as declaration
use Rattle.ada_program.specs.declared.program.FormalMode.TheVariants.{InOut}
use Rattle.ada_program.specs.declared.program.PartKind.TheVariants as part
use Rattle.ada_program.specs.declared.program.RecordPath.{RecordPath}
use Rattle.ada_program.specs.declared.program.Procedure.{Procedure}
use Rattle.ada_program.specs.declared.program.Program.{Program}
use Rattle.ada_program.specs.declared.program.Stmt as stmt
use Rattle.ada_program.specs.declared.program.TypeDefinition.{TypeDefinition}
use Rattle.ada_program.specs.declared.program.TypeDefinition.TheVariants as definition
use Rattle.ada_program.specs.declared.program.Variable.{Variable}
use Rattle.ada_program.specs.declared.program.VariableKind.TheVariants as variable
use Rattle.ada_program.specs.Form.{expression_form, stmt_form}
use Rattle.ada_program.specs.ProgramForm.{body_forms}
use Rattle.ada_meaning.specs.declared.state.Value.{Value}
use Rattle.ada_meaning.specs.declared.state.Value.TheVariants.{Names, Part}
use Rattle.ada_meaning.specs.State.{Activation}
use Rattle.ada_meaning.specs.Step.{older, halts, moves, tells, asks, picks}
use Rattle.ada_meaning.specs.Named.{State, Next, next}
use Rattle.ada_meaning.specs.Run.{Event, Run, settled, here, there, first_state}
use Rattle.ada_meaning.specs.Calls.{WithinCall, here as within, there as further}
use Rattle.ada_typed.proofs.Example.{vec, no_name, spot}

-- type Door is record Level : Integer := 1; end record; and what a variable of it is known by
abbrev types : List TypeDefinition
types =
    definition.Record no_name
    (vec (record { name = no_name; kind = part.Elementary (kind.Integer (pos 1)); first = record { 0 = 0 }; part = record { 0 = 0 } } ∷ []) (omega arith))
    (vec (kind.Integer (pos 1) ∷ []) (omega arith)) None
    ∷ definition.Object (record { 0 = 0 })
    ∷ []

abbrev door : Variable
door = record { name = no_name; spot = spot; kind = variable.Record (record { 0 = 1 }); borrows = false }

-- D : Door;
abbrev declares_door : Declaration
declares_door = declaration.Record (record { 0 = 0 }) (record { 0 = 1 }) None

-- D
abbrev whole : RecordPath
whole = record {
  object = record { root = record { 0 = 0 }; selectors = vec [] (omega arith); of_record = true; spot = spot };
  first = record { 0 = 0 };
  part = record { 0 = 0 };
  «record» = record { 0 = 0 };
}

-- procedure Replace (D : in out Door) is D : Door; begin null; end Replace;
abbrev replace : Procedure
replace = record {
  formals = vec (InOut ∷ []) (omega arith);
  variables = vec (door ∷ []) (omega arith);
  declarations = vec (declares_door ∷ []) (omega arith);
  statements = vec (stmt.Null ∷ []) (omega arith);
  handlers = vec [] (omega arith);
  start = spot;
  end = spot;
}

-- D : Door; .. Replace (D);
abbrev program : Program
program = record {
  types = vec types (omega arith);
  pools = vec [] (omega arith);
  procedures = vec (replace ∷ []) (omega arith);
  variables = vec (door ∷ []) (omega arith);
  texts = vec [] (omega arith);
  exceptions = vec [] (omega arith);
  declarations = vec (declares_door ∷ []) (omega arith);
  statements = vec (stmt.Call (record { 0 = 0 }) (vec (actual.InOutRecord whole ∷ []) (omega arith)) ∷ []) (omega arith);
  handlers = vec [] (omega arith);
}

-- The state behind a step, where one comes.
abbrev behind : Next → State → State
behind (halts halt) s = s
behind (moves e after) s = after
behind (tells request e after) s = after
behind (asks request answers) s = answers true
behind (picks n taking) s = taking 0

abbrev after : State → State
after s = behind (next program.types.items (body_forms program) s) s

abbrev called : State
called = after (after (after (after (after (after (first_state program []))))))

two : 1 < 2
two = omega arith

comes : (events : List Event) × Run program (first_state program []) events called
unfolding next expression_form stmt_form
comes = (
  _,
  there settled (after (first_state program [])) (refl, refl) (there settled (after (after (first_state program []))) (refl, refl) (
      there settled (after (after (after (first_state program [])))) (refl, refl) (
      there settled (after (after (after (after (first_state program []))))) (refl, refl) (
      there settled (after (after (after (after (after (first_state program [])))))) (refl, refl) (there settled called (refl, refl) here))))),
)

stays : (events : List Event) × WithinCall program 1 called events (after called)
unfolding next expression_form stmt_form
stays = (_, further settled (after called) (refl, refl) two within)

-- What the formal parameter holds as the body begins, and what it holds then.
running : (a : Activation Value) × (main : Activation Value) × (b : Activation Value) × (called.activations ≡ a ∷ main ∷ []) × ((after called).activations ≡ b ∷ main ∷ [])
    × (slice_get a.places 0 ≡ Some (Part (record { 0 = 0 }) (record { component = 0; part = 0 }))) × (slice_get b.places 0 ≡ Some (Names (record { 0 = 1 })))
    × (a.procedure ≡ Some 0)
unfolding next expression_form stmt_form
running = (_, _, _, refl, refl, refl, refl, refl)

is_formal : IsRecordFormal (body_forms program) (Some 0) 0
unfolding expression_form stmt_form
is_formal = (record { 0 = 1 }, refl)

-- Behind the main body's, there is one activation.
none_inside : (inner : List (Activation Value)) (later main : Activation Value) → [] ≡ inner ++ later ∷ main ∷ [] → ⊥
none_inside [] later main is = absurd (cc)
none_inside (i ∷ inner) later main is = absurd (cc)

one_inside : (inner : List (Activation Value)) (b later main : Activation Value) → b ∷ main ∷ [] ≡ inner ++ later ∷ main ∷ [] → b ≡ later
one_inside [] b later main is = cc
one_inside (i ∷ []) b later main is = absurd (cc)
one_inside (i ∷ j ∷ inner) b later main is =
    let none : [] ≡ inner ++ later ∷ main ∷ [] = ap (λ (xs : List (Activation Value)). older (older xs)) is in
    absurd (none_inside inner later main none)

another_record : FormalsStayIn program → ⊥
another_record all =
    let a = running.0 in
    let main = running.1 in
    let b = running.2 in
    let got = all [] comes.0 called comes.1 a (main ∷ []) running.3 stays.0 (after called) stays.1 in
    let same : b ≡ got.1 = one_inside got.0 b got.1 main (sym running.4 ∙ got.2) in
    let formal = subst (λ (procedure : Option ℕ). IsRecordFormal (body_forms program) procedure 0) (sym running.7) is_formal in
    let held = ap (λ (x : Activation Value). slice_get x.places 0) same ∙ got.3.held 0 formal in
    let never : Some (Names (record { 0 = 1 })) ≡ Some (Part (record { 0 = 0 }) (record { component = 0; part = 0 })) = sym running.6 ∙ held ∙ running.5 in
    absurd (cc)

pub needed : WellFormednessIsNeeded
needed = (program, another_record)
