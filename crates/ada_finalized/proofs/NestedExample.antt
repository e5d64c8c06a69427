-- A program in which operations assign to components of their formal parameters, inside of each other, and runs of it.

use Rattle.std.proofs.Common.{◌≡◌, ℕ, true, false, List, [], ◌∷◌, ◌++◌, refl, inl, inr, subst, arith}
use Rattle.std.specs.Prelude.{None, pos}
use Rattle.std.specs.List.{Contains}
use Rattle.ada_program.specs.declared.program.ComponentKind.TheVariants as component
use Rattle.ada_program.specs.declared.program.Declaration.TheVariants as declaration
use Rattle.ada_program.specs.declared.program.FormalMode.TheVariants.{InOut}
use Rattle.ada_program.specs.declared.program.Item.TheVariants as item
use Rattle.ada_program.specs.declared.program.PartKind.TheVariants as part
use Rattle.ada_program.specs.declared.program.Procedure.{Procedure}
use Rattle.ada_program.specs.declared.program.Program.{Program}
use Rattle.ada_program.specs.declared.program.RecordPath.{RecordPath}
use Rattle.ada_program.specs.declared.program.Stmt.{Stmt}
use Rattle.ada_program.specs.declared.program.Stmt as stmt
use Rattle.ada_program.specs.declared.program.TypeDefinition.{TypeDefinition}
use Rattle.ada_program.specs.declared.program.TypeDefinition.TheVariants as definition
use Rattle.ada_program.specs.declared.program.Variable.{Variable}
use Rattle.ada_program.specs.declared.program.VariableKind.TheVariants as variable
use Rattle.ada_program.specs.Controlled.{no_operations, shapes_of, operations_of}
use Rattle.ada_program.specs.Form.{stmt_form, expression_form, stmt_forms, statement_rules}
use Rattle.ada_program.specs.ProgramForm.{body_forms}
use Rattle.ada_parts.specs.Part.{LiesIn}
use Rattle.ada_meaning.specs.declared.event.Halt.TheVariants.{Finished}
use Rattle.ada_meaning.specs.Named.{next}
use Rattle.ada_meaning.specs.Run.{Choice, takes, Halts}
use Rattle.ada_order.specs.Example.{InSomeRun}
use Rattle.ada_order.proofs.Choices.{run_by}
use Rattle.ada_order.proofs.Example.{steps, vec, no_name, spot}
use Rattle.ada_finalized.specs.Example.{object_x}
use Rattle.ada_finalized.specs.Nested.{nested_shapes, inner_finalizes, outer_initializes, nested_finalize, nested_initialize, nested_stmts, TreatsInnermost}
use Rattle.ada_finalized.proofs.Treated.{none_in, cons_cases}
use Rattle.ada_finalized.proofs.Example.{controlled_with}

-- Leaf, Inner and Outer, and what the objects are known by: X and the formal parameter of Initialize; that of Finalize and the object of Initialize; and that
-- of Finalize.
abbrev types : List TypeDefinition
types =
    controlled_with (part.Elementary (component.Integer (pos 0))) 0 1 no_operations
    ∷ controlled_with (part.Record (record { 0 = 0 })) 1 2 inner_finalizes
    ∷ controlled_with (part.Record (record { 0 = 1 })) 2 3 outer_initializes
    ∷ definition.Object (record { 0 = 2 })
    ∷ definition.Object (record { 0 = 2 })
    ∷ definition.Object (record { 0 = 1 })
    ∷ definition.Object (record { 0 = 1 })
    ∷ definition.Object (record { 0 = 0 })
    ∷ []

-- A record object that is known by the type of this number.
abbrev object_of : ℕ → Variable
object_of t = record { name = no_name; spot = spot; kind = variable.Record (record { 0 = t }); borrows = false }

abbrev record_path : (x part record_type : ℕ) → RecordPath
record_path x part t = record {
  object = record { root = record { 0 = x }; of_record = true; selectors = vec [] (omega arith); spot = spot };
  first = record { 0 = 0 };
  part = record { 0 = part };
  «record» = record { 0 = t };
}

abbrev assigning : (formal own record_type : ℕ) → Procedure
assigning formal own t = record {
  formals = vec (InOut ∷ []) (omega arith);
  variables = vec (object_of formal ∷ object_of own ∷ []) (omega arith);
  declarations = vec (declaration.Record (record { 0 = 1 }) (record { 0 = own }) None ∷ []) (omega arith);
  statements = vec (stmt.AssignRecord (record_path 0 1 t) (vec (item.Record (record_path 1 0 t) ∷ []) (omega arith)) ∷ []) (omega arith);
  handlers = vec [] (omega arith);
  start = spot;
  end = spot;
}

abbrev block : Stmt
block =
    stmt.Block (vec (declaration.Record (record { 0 = 0 }) (record { 0 = 3 }) None ∷ []) (omega arith)) (vec (stmt.Null ∷ []) (omega arith))
    (vec [] (omega arith))

abbrev pub program : Program
program = record {
  types = vec types (omega arith);
  pools = vec [] (omega arith);
  procedures = vec (assigning 5 7 0 ∷ assigning 4 6 1 ∷ []) (omega arith);
  variables = vec (object_of 3 ∷ []) (omega arith);
  texts = vec [] (omega arith);
  exceptions = vec [] (omega arith);
  declarations = vec [] (omega arith);
  statements = vec (block ∷ []) (omega arith);
  handlers = vec [] (omega arith);
}

pub shapes : shapes_of program.types.items ≡ nested_shapes
shapes = refl

pub inner_operations : operations_of program.types.items 1 ≡ inner_finalizes
inner_operations = refl

pub outer_operations : operations_of program.types.items 2 ≡ outer_initializes
outer_operations = refl

pub bodies : body_forms program ≡ nested_finalize ∷ nested_initialize ∷ []
bodies = simp statement_rules

pub form : stmt_forms program ≡ nested_stmts
form = simp statement_rules

-- The part of Leaf lies in X, and is left to be finalized behind its component.
abbrev InBoth : ℕ → Type 0
InBoth n = (object_x ≡ object_x → Contains (2 ∷ []) n) × ((object_x ≡ object_x → LiesIn nested_shapes n (record { of = 2; number = 0 })) × Unit {0})

leaf_in_both : InBoth 2
leaf_in_both = ((λ same. (0, omega arith, refl)), ((λ same. record { behind = omega arith; within = omega arith }), tt))

leaf_alone : (n : ℕ) → Contains (2 ∷ []) n → InBoth n
leaf_alone n has = elim (cons_cases 2 n [] has) [ inl same ↦ subst InBoth same leaf_in_both | inr more ↦ none_in n more ]

-- The parts of X are initialized, and Initialize is called, whose object Y is initialized; X.C := Y; begins, and Finalize is called for X.C; then its object is
-- initialized, and X.C.C := Y; begins.
abbrev up_to_innermost : List Choice
up_to_innermost = steps 3 ++ takes 0 ∷ takes 0 ∷ steps 4 ++ takes 0 ∷ steps 9 ++ steps 10

pub treats_innermost : InSomeRun program (λ events last. TreatsInnermost program last)
unfolding next expression_form stmt_form
treats_innermost =
    run_by program (nested_finalize ∷ nested_initialize ∷ []) nested_stmts bodies form up_to_innermost (λ events last. TreatsInnermost program last) refl
    (_, _, (_ ∷ _ ∷ _ ∷ _ ∷ _ ∷ _ ∷ _ ∷ []), _, refl, refl, (λ none. none.0 refl), leaf_alone)

-- An assignment to a component of Leaf goes to its end, the body of Finalize is left, with its object, and Finalize ends.
abbrev leaves_finalize : List Choice
leaves_finalize = steps 7 ++ takes 0 ∷ steps 7

-- Finalize is called, assigns, and ends.
abbrev finalizes : List Choice
finalizes = steps 10 ++ leaves_finalize

pub finishes : InSomeRun program (λ events last. Halts program last Finished)
unfolding next expression_form stmt_form
finishes =
    run_by program (nested_finalize ∷ nested_initialize ∷ []) nested_stmts bodies form
    (up_to_innermost ++ leaves_finalize ++ takes 0 ∷ steps 3 ++ takes 0 ∷ steps 5 ++ takes 0 ∷ finalizes ++ takes 0 ∷ steps 7 ++ steps 5 ++ takes 0 ∷ steps 1
    ++ takes 0 ∷ finalizes ++ takes 0 ∷ steps 9)
    (λ events last. Halts program last Finished) refl refl
