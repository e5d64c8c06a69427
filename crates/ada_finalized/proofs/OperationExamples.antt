-- Programs whose Initialize raises an exception, frees another object or assigns to a component of its own, or whose Finalize does nothing, assigns to its
-- object or to a component of it, or frees another one, and runs of them.

use Rattle.std.proofs.Common.{◌≡◌, ◌≢◌, ◌≤◌, ℕ, true, false, List, [], ◌∷◌, ◌++◌, length, refl, inl, inr, subst, arith}
use Rattle.std.specs.Prelude.{None, pos}
use Rattle.std.specs.List.{filter, Contains}
use Rattle.ada_program.specs.declared.program.ComponentKind.TheVariants as component
use Rattle.ada_program.specs.declared.program.Declaration.{Declaration}
use Rattle.ada_program.specs.declared.program.Declaration.TheVariants as declaration
use Rattle.ada_program.specs.declared.program.Exception.TheVariants.{ConstraintError}
use Rattle.ada_program.specs.declared.program.FormalMode.TheVariants.{InOut}
use Rattle.ada_program.specs.declared.program.Item.TheVariants as item
use Rattle.ada_program.specs.declared.program.Operations.{Operations}
use Rattle.ada_program.specs.declared.program.PartKind.TheVariants as part
use Rattle.ada_program.specs.declared.program.Procedure.{Procedure}
use Rattle.ada_program.specs.declared.program.Program.{Program}
use Rattle.ada_program.specs.declared.program.RecordPath.{RecordPath}
use Rattle.ada_program.specs.declared.program.Right.TheVariants as right
use Rattle.ada_program.specs.declared.program.Stmt.{Stmt}
use Rattle.ada_program.specs.declared.program.Stmt as stmt
use Rattle.ada_program.specs.declared.program.TypeDefinition.{TypeDefinition}
use Rattle.ada_program.specs.declared.program.TypeDefinition.TheVariants as definition
use Rattle.ada_program.specs.declared.program.Variable.{Variable}
use Rattle.ada_program.specs.declared.program.VariableKind.TheVariants as variable
use Rattle.ada_program.specs.Controlled.{no_operations, shapes_of, operations_of}
use Rattle.ada_program.specs.Form.{stmt_form, expression_form, stmt_forms, statement_rules}
use Rattle.ada_program.specs.ProgramForm.{body_forms}
use Rattle.ada_parts.specs.Part.{LiesIn}
use Rattle.ada_meaning.specs.declared.state.Value.TheVariants.{Names}
use Rattle.ada_meaning.specs.declared.event.Halt.TheVariants.{Finished, Unhandled}
use Rattle.ada_meaning.specs.Named.{next}
use Rattle.ada_meaning.specs.Run.{Choice, grants, takes, Halts}
use Rattle.ada_order.specs.Example.{InSomeRun, is_seen}
use Rattle.ada_order.proofs.Choices.{run_by}
use Rattle.ada_order.proofs.Example.{steps, vec, no_name, spot, path}
use Rattle.ada_finalized.specs.Example.{controlled_shapes, raising_initialize, object_stmts, outer_operations, undone_events, quiet_finalize, outer_finalizes, BeginsAlone, TreatsAlone, BeginsWithin, assigning_finalize, TreatsTwice, object_x, freeing_operation, created_there, StandsWithin, TreatsWithin, assigning_operation, initialize_events, finalize_events, TreatsInner}
use Rattle.ada_finalized.proofs.Treated.{none_in, cons_cases}
use Rattle.ada_finalized.proofs.Doings.{same_name}
use Rattle.ada_finalized.proofs.Example.{controlled_with, whole}

-- Inner, Outer, what X, the formal parameter of an operation and an object in it are known by, and Inner_Access.
abbrev types : Operations → List TypeDefinition
types operations =
    controlled_with (part.Elementary (component.Integer (pos 0))) 0 1 no_operations
    ∷ controlled_with (part.Record (record { 0 = 0 })) 1 2 operations
    ∷ definition.Object (record { 0 = 1 })
    ∷ definition.Object (record { 0 = 1 })
    ∷ definition.Object (record { 0 = 1 })
    ∷ definition.Access no_name (record { 0 = 0 }) None
    ∷ definition.Object (record { 0 = 0 })
    ∷ []

-- A record object that is known by the type of this number.
abbrev of_outer : ℕ → Variable
of_outer t = record { name = no_name; spot = spot; kind = variable.Record (record { 0 = t }); borrows = false }

-- An operation with these objects of its own and this statement.
abbrev operation : (own : List Variable) → length own ≤ 7 → (declarations : List Declaration) → length declarations ≤ 8 → Stmt → Procedure
operation own few declarations some statement = record {
  formals = vec (InOut ∷ []) (omega arith);
  variables = vec (of_outer 3 ∷ own) (omega (arith, few));
  declarations = vec declarations (omega (arith, some));
  statements = vec (statement ∷ []) (omega arith);
  handlers = vec [] (omega arith);
  start = spot;
  end = spot;
}

abbrev block : Stmt
block =
    stmt.Block (vec (declaration.Record (record { 0 = 0 }) (record { 0 = 2 }) None ∷ []) (omega arith)) (vec (stmt.Null ∷ []) (omega arith))
    (vec [] (omega arith))

abbrev program_with : Operations → Procedure → Program
program_with operations procedure = record {
  types = vec (types operations) (omega arith);
  pools = vec [] (omega arith);
  procedures = vec (procedure ∷ []) (omega arith);
  variables = vec (of_outer 2 ∷ []) (omega arith);
  texts = vec [] (omega arith);
  exceptions = vec [] (omega arith);
  declarations = vec [] (omega arith);
  statements = vec (block ∷ []) (omega arith);
  handlers = vec [] (omega arith);
}

-- Initialize raises an exception.
abbrev pub program : Program
program = program_with outer_operations (operation [] (omega arith) [] (omega arith) (stmt.Raise ConstraintError))

pub shapes : shapes_of program.types.items ≡ controlled_shapes
shapes = refl

pub operations : operations_of program.types.items 1 ≡ outer_operations
operations = refl

pub bodies : body_forms program ≡ raising_initialize ∷ []
bodies = simp statement_rules

pub form : stmt_forms program ≡ object_stmts
form = simp statement_rules

-- The component is picked.
abbrev choices : List Choice
choices = steps 3 ++ takes 0 ∷ steps 21

pub ends : InSomeRun program (λ events last. Halts program last (Unhandled ConstraintError) × (filter is_seen events ≡ undone_events))
unfolding next expression_form stmt_form
ends =
    run_by program (raising_initialize ∷ []) object_stmts bodies form choices
    (λ events last. Halts program last (Unhandled ConstraintError) × (filter is_seen events ≡ undone_events)) refl (refl, refl)

-- Finalize does nothing.
abbrev pub calling : Program
calling = program_with outer_finalizes (operation [] (omega arith) [] (omega arith) stmt.Null)

pub calling_shapes : shapes_of calling.types.items ≡ controlled_shapes
calling_shapes = refl

pub calling_operations : operations_of calling.types.items 1 ≡ outer_finalizes
calling_operations = refl

pub calling_bodies : body_forms calling ≡ quiet_finalize ∷ []
calling_bodies = simp statement_rules

pub calling_form : stmt_forms calling ≡ object_stmts
calling_form = simp statement_rules

-- X is initialized, component first; then the statement of the block begins.
abbrev up_to_statement : List Choice
up_to_statement = steps 3 ++ takes 0 ∷ steps 3

pub begins_alone : InSomeRun calling (λ events last. BeginsAlone last)
unfolding next expression_form stmt_form
begins_alone =
    run_by calling (quiet_finalize ∷ []) object_stmts calling_bodies calling_form up_to_statement (λ events last. BeginsAlone last) refl
    (refl, (refl, (refl, (refl, (refl, (refl, (refl, tt)))))))

-- The block is left, and X is picked.
abbrev up_to_leaving : List Choice
up_to_leaving = up_to_statement ++ steps 4 ++ takes 0 ∷ []

pub treats_alone : InSomeRun calling (λ events last. TreatsAlone last)
unfolding next expression_form stmt_form
treats_alone =
    run_by calling (quiet_finalize ∷ []) object_stmts calling_bodies calling_form up_to_leaving (λ events last. TreatsAlone last) refl
    (_, _, refl, (refl, (refl, (refl, (refl, (refl, (refl, (refl, tt))))))))

-- Finalize is called, and its statement begins.
abbrev up_to_finalize : List Choice
up_to_finalize = up_to_leaving ++ steps 2

pub begins_within : InSomeRun calling (λ events last. BeginsWithin last)
unfolding next expression_form stmt_form
begins_within =
    run_by calling (quiet_finalize ∷ []) object_stmts calling_bodies calling_form up_to_finalize (λ events last. BeginsWithin last) refl (refl, λ never. never)

-- Finalize assigns to its object.
abbrev pub assigning : Program
assigning =
    program_with outer_finalizes
    (operation (of_outer 4 ∷ []) (omega arith) (declaration.Record (record { 0 = 1 }) (record { 0 = 4 }) None ∷ []) (omega arith)
    (stmt.AssignRecord (whole 0) (vec (item.Record (whole 1) ∷ []) (omega arith))))

pub assigning_shapes : shapes_of assigning.types.items ≡ controlled_shapes
assigning_shapes = refl

pub assigning_operations : operations_of assigning.types.items 1 ≡ outer_finalizes
assigning_operations = refl

pub assigning_bodies : body_forms assigning ≡ assigning_finalize ∷ []
assigning_bodies = simp statement_rules

pub assigning_form : stmt_forms assigning ≡ object_stmts
assigning_form = simp statement_rules

-- Finalize is called, its own object is initialized, component first, and the records of the assignment are found.
abbrev up_to_assignment : List Choice
up_to_assignment = up_to_leaving ++ steps 2 ++ takes 0 ∷ steps 9

pub treats_twice : InSomeRun assigning (λ events last. TreatsTwice assigning last)
unfolding next expression_form stmt_form
treats_twice =
    run_by assigning (assigning_finalize ∷ []) object_stmts assigning_bodies assigning_form up_to_assignment (λ events last. TreatsTwice assigning last) refl
    (_, _, _, refl, refl)

-- An operation creates an object, and frees it.
abbrev inner_access : Variable
inner_access = record { name = no_name; spot = spot; kind = variable.Access (record { 0 = 5 }); borrows = false }

abbrev freeing_procedure : Procedure
freeing_procedure = record {
  formals = vec (InOut ∷ []) (omega arith);
  variables = vec (of_outer 3 ∷ inner_access ∷ []) (omega arith);
  declarations = vec (declaration.Variable (record { 0 = 1 }) None ∷ []) (omega arith);
  statements = vec (stmt.Assign (path 1) (right.Default (record { 0 = 5 })) ∷ stmt.Free (record { 0 = 5 }) (path 1) ∷ []) (omega arith);
  handlers = vec [] (omega arith);
  start = spot;
  end = spot;
}

-- The collection of Inner_Access is that of the main procedure.
abbrev pub freeing : Operations → Program
freeing overrides = record (program_with overrides freeing_procedure) { declarations = vec (declaration.Collection (record { 0 = 5 }) ∷ []) (omega arith) }

pub freeing_shapes : (overrides : Operations) → shapes_of (freeing overrides).types.items ≡ controlled_shapes
freeing_shapes overrides = refl

pub freeing_operations : (overrides : Operations) → operations_of (freeing overrides).types.items 1 ≡ overrides
freeing_operations overrides = refl

pub freeing_bodies : (overrides : Operations) → body_forms (freeing overrides) ≡ freeing_operation ∷ []
freeing_bodies overrides = simp statement_rules

pub freeing_form : (overrides : Operations) → stmt_forms (freeing overrides) ≡ object_stmts
freeing_form overrides = simp statement_rules

true_never : true ≢ false
true_never e = cc e

x_is_other : object_x ≢ Names created_there
x_is_other e = let never = same_name 0 1 e in omega (arith, never)

-- The operation is called, its object is created, and the Free begins; then the Free has found the object.
abbrev up_to_free : List Choice
up_to_free = steps 6 ++ grants true ∷ steps 2

-- Initialize is called once the component of X is initialized.
abbrev initialize_frees : List Choice
initialize_frees = steps 4 ++ takes 0 ∷ steps 2 ++ up_to_free

pub initialize_stands : InSomeRun (freeing outer_operations) (λ events last. StandsWithin (freeing outer_operations) last)
unfolding next expression_form stmt_form
initialize_stands =
    run_by (freeing outer_operations) (freeing_operation ∷ []) object_stmts (freeing_bodies outer_operations) (freeing_form outer_operations) initialize_frees
    (λ events last. StandsWithin (freeing outer_operations) last) refl ((refl, λ never. never), _, refl, refl, refl, (x_is_other, tt))

pub initialize_treats : InSomeRun (freeing outer_operations) (λ events last. TreatsWithin last)
unfolding next expression_form stmt_form
initialize_treats =
    run_by (freeing outer_operations) (freeing_operation ∷ []) object_stmts (freeing_bodies outer_operations) (freeing_form outer_operations)
    (initialize_frees ++ steps 1) (λ events last. TreatsWithin last) refl
    (_, _, _, refl, (λ still. true_never still.1.1.1.1.1.1.1.1.0), (x_is_other, tt))

-- Finalize is called for X itself, once the block is left and X is picked.
abbrev finalize_frees : List Choice
finalize_frees = steps 1 ++ up_to_leaving ++ steps 1 ++ up_to_free

pub finalize_stands : InSomeRun (freeing outer_finalizes) (λ events last. StandsWithin (freeing outer_finalizes) last)
unfolding next expression_form stmt_form
finalize_stands =
    run_by (freeing outer_finalizes) (freeing_operation ∷ []) object_stmts (freeing_bodies outer_finalizes) (freeing_form outer_finalizes) finalize_frees
    (λ events last. StandsWithin (freeing outer_finalizes) last) refl ((refl, λ never. never), _, refl, refl, refl, tt)

pub finalize_treats : InSomeRun (freeing outer_finalizes) (λ events last. TreatsWithin last)
unfolding next expression_form stmt_form
finalize_treats =
    run_by (freeing outer_finalizes) (freeing_operation ∷ []) object_stmts (freeing_bodies outer_finalizes) (freeing_form outer_finalizes)
    (finalize_frees ++ steps 1) (λ events last. TreatsWithin last) refl
    (_, _, _, refl, (λ still. true_never still.1.1.1.1.1.1.1.1.0), (x_is_other, tt))

-- An operation assigns to the component of its formal parameter.
abbrev inner_path : (x part : ℕ) → RecordPath
inner_path x part = record {
  object = record { root = record { 0 = x }; of_record = true; selectors = vec [] (omega arith); spot = spot };
  first = record { 0 = 0 };
  part = record { 0 = part };
  «record» = record { 0 = 0 };
}

abbrev pub assigning_inside : Operations → Program
assigning_inside overrides =
    program_with overrides
    (operation (of_outer 6 ∷ []) (omega arith) (declaration.Record (record { 0 = 1 }) (record { 0 = 6 }) None ∷ []) (omega arith)
    (stmt.AssignRecord (inner_path 0 1) (vec (item.Record (inner_path 1 0) ∷ []) (omega arith))))

pub inside_shapes : (overrides : Operations) → shapes_of (assigning_inside overrides).types.items ≡ controlled_shapes
inside_shapes overrides = refl

pub inside_operations : (overrides : Operations) → operations_of (assigning_inside overrides).types.items 1 ≡ overrides
inside_operations overrides = refl

pub inside_bodies : (overrides : Operations) → body_forms (assigning_inside overrides) ≡ assigning_operation ∷ []
inside_bodies overrides = simp statement_rules

pub inside_form : (overrides : Operations) → stmt_forms (assigning_inside overrides) ≡ object_stmts
inside_form overrides = simp statement_rules

-- One part is left, which lies in X, or is left to be finalized.
one_part : (P : ℕ → Type 0) → P 1 → (n : ℕ) → Contains (1 ∷ []) n → P n
one_part P p n has = elim (cons_cases 1 n [] has) [ inl same ↦ subst P same p | inr more ↦ none_in n more ]

abbrev LiesInX : ℕ → Type 0
LiesInX n = (object_x ≡ object_x → LiesIn controlled_shapes n (record { of = 1; number = 0 })) × Unit {0}

abbrev IsLeftOfX : ℕ → Type 0
IsLeftOfX n = (object_x ≡ object_x → Contains (1 ∷ []) n) × Unit {0}

component_lies : LiesIn controlled_shapes 1 (record { of = 1; number = 0 })
component_lies = record { behind = omega arith; within = omega arith }

-- The operation is called, Y is initialized, and the records of the assignment are found.
abbrev initialize_assigns : List Choice
initialize_assigns = steps 3 ++ takes 0 ∷ steps 11

pub initialize_inner : InSomeRun (assigning_inside outer_operations) (λ events last. TreatsInner (assigning_inside outer_operations) last)
unfolding next expression_form stmt_form
initialize_inner =
    run_by (assigning_inside outer_operations) (assigning_operation ∷ []) object_stmts (inside_bodies outer_operations) (inside_form outer_operations)
    initialize_assigns (λ events last. TreatsInner (assigning_inside outer_operations) last) refl
    (_, _, _, refl, (λ none. none.0 refl), one_part LiesInX ((λ same. component_lies), tt))

-- The component is finalized, copied and adjusted; Y is finalized as the body is left; and X as the block is.
abbrev initialize_finishes : List Choice
initialize_finishes = initialize_assigns ++ steps 7 ++ takes 0 ∷ steps 12 ++ takes 0 ∷ steps 1 ++ takes 0 ∷ steps 9

pub initialize_ends :
    InSomeRun (assigning_inside outer_operations)
    (λ events last. Halts (assigning_inside outer_operations) last Finished × (filter is_seen events ≡ initialize_events))
unfolding next expression_form stmt_form
initialize_ends =
    run_by (assigning_inside outer_operations) (assigning_operation ∷ []) object_stmts (inside_bodies outer_operations) (inside_form outer_operations)
    initialize_finishes
    (λ events last. Halts (assigning_inside outer_operations) last Finished × (filter is_seen events ≡ initialize_events)) refl (refl, refl)

-- So it is in Finalize, which is called once the block is left and X is picked.
abbrev finalize_assigns : List Choice
finalize_assigns = up_to_leaving ++ steps 10

pub finalize_inner : InSomeRun (assigning_inside outer_finalizes) (λ events last. TreatsInner (assigning_inside outer_finalizes) last)
unfolding next expression_form stmt_form
finalize_inner =
    run_by (assigning_inside outer_finalizes) (assigning_operation ∷ []) object_stmts (inside_bodies outer_finalizes) (inside_form outer_finalizes)
    finalize_assigns (λ events last. TreatsInner (assigning_inside outer_finalizes) last) refl
    (_, _, _, refl, (λ none. none.0 refl), one_part IsLeftOfX ((λ same. (0, omega arith, refl)), tt))

abbrev finalize_finishes : List Choice
finalize_finishes = finalize_assigns ++ steps 7 ++ takes 0 ∷ steps 7 ++ takes 0 ∷ steps 9

pub finalize_ends :
    InSomeRun (assigning_inside outer_finalizes)
    (λ events last. Halts (assigning_inside outer_finalizes) last Finished × (filter is_seen events ≡ finalize_events))
unfolding next expression_form stmt_form
finalize_ends =
    run_by (assigning_inside outer_finalizes) (assigning_operation ∷ []) object_stmts (inside_bodies outer_finalizes) (inside_form outer_finalizes)
    finalize_finishes
    (λ events last. Halts (assigning_inside outer_finalizes) last Finished × (filter is_seen events ≡ finalize_events)) refl (refl, refl)
