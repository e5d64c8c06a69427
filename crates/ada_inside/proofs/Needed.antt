-- A program whose Finalize assigns to its formal parameter as a whole.

use Rattle.std.proofs.Common.{◌≡◌, true, false, List, [], ◌∷◌, ◌++◌, refl, sym, subst, arith}
use Rattle.std.specs.Prelude.{pos}
use Rattle.ada_program.specs.declared.program.ComponentKind.TheVariants as component
use Rattle.ada_program.specs.declared.program.PartKind.TheVariants as part
use Rattle.ada_program.specs.declared.program.Program.{Program}
use Rattle.ada_program.specs.declared.program.TypeDefinition.TheVariants as definition
use Rattle.ada_program.specs.Controlled.{no_operations, shapes_of}
use Rattle.ada_program.specs.Form.{StmtsForm, stmt_form, expression_form, stmt_forms, statement_rules}
use Rattle.ada_program.specs.ProgramForm.{ProgramForm, program_form, body_forms}
use Rattle.ada_program.specs.WellFormed.{IsWellFormed, creates_from, creations, stmts_fit, callable_in, pools_fit as pools_are_known}
use Rattle.ada_meaning.specs.declared.event.Cause.TheVariants.{Assigning}
use Rattle.ada_meaning.specs.Frame.{ends}
use Rattle.ada_meaning.specs.Named.{next}
use Rattle.ada_meaning.specs.Run.{Choice, takes}
use Rattle.ada_order.specs.Example.{InSomeRun}
use Rattle.ada_order.proofs.Choices.{run_by}
use Rattle.ada_order.proofs.Example.{steps, vec}
use Rattle.ada_finalized.specs.Example.{outer_finalizes, assigning_finalize, object_x, object_stmts, TreatsTwice}
use Rattle.ada_finalized.proofs.Example.{controlled_with}
use Rattle.ada_finalized.proofs.OperationExamples as examples
use Rattle.ada_finalized.proofs.Twice.{inner_values_exist}
use Rattle.ada_assigned.specs.Law.{operations_assign_inside}
use Rattle.ada_inside.specs.Law.{NestInside}
use Rattle.ada_inside.specs.Example.{PremiseIsNeeded}

-- That of `ada_finalized`, without its access type.
abbrev program : Program
program = record examples.assigning {
  types = vec
      (controlled_with (part.Elementary (component.Integer (pos 0))) 0 1 no_operations
      ∷ controlled_with (part.Record (record { 0 = 0 })) 1 2 outer_finalizes
      ∷ definition.Object (record { 0 = 1 })
      ∷ definition.Object (record { 0 = 1 })
      ∷ definition.Object (record { 0 = 1 })
      ∷ []) (omega arith);
}

bodies : body_forms program ≡ assigning_finalize ∷ []
bodies = simp statement_rules

form : stmt_forms program ≡ object_stmts
form = simp statement_rules

-- The program with these statements.
abbrev with_stmts : StmtsForm → ProgramForm
with_stmts fs = record (program_form program) { statements = fs }

well_formed : IsWellFormed (program_form program)
unfolding expression_form stmt_form
well_formed = record {
  types_fit = refl;
  components_lie = refl;
  operations_fit = refl;
  pools_fit = subst (λ (fs : StmtsForm). pools_are_known (with_stmts fs) ≡ true) (sym form) refl;
  variables_fit = refl;
  creates_in_order = subst (λ (fs : StmtsForm). creates_from 1 0 (creations (with_stmts fs)) ≡ true) (sym form) refl;
  collections_first = refl;
  collections_fit = refl;
  has_one_each = refl;
  initials_fit = refl;
  statements_fit =
      subst
      (λ (fs : StmtsForm). stmts_fit (with_stmts fs).types (with_stmts fs).variables (with_stmts fs).texts (with_stmts fs).exceptions (callable_in (with_stmts fs)) false fs ≡ true)
      (sym form) refl;
  handlers_fit = refl;
  bodies_fit = refl;
}

assigns_whole : operations_assign_inside (program_form program) (λ t. true) (λ procedure. false) ≡ false
unfolding expression_form stmt_form
assigns_whole = refl

-- X is initialized, component first, the block is left, and X is picked; Finalize is called, its own object is initialized, and the records of the assignment are
-- found.
abbrev up_to_assignment : List Choice
up_to_assignment = steps 3 ++ takes 0 ∷ steps 3 ++ steps 4 ++ takes 0 ∷ [] ++ steps 2 ++ takes 0 ∷ steps 9

treats_twice : InSomeRun program (λ events last. TreatsTwice program last)
unfolding next expression_form stmt_form
treats_twice =
    run_by program (assigning_finalize ∷ []) object_stmts bodies form up_to_assignment (λ events last. TreatsTwice program last) refl (_, _, _, refl, refl)

-- What is finalized next halts the run, so it is not inside.
not_inside : InSomeRun program (λ events last. TreatsTwice program last) → InSomeRun program (λ events last. NestInside (shapes_of program.types.items) last.control → ⊥)
not_inside (input, events, last, run, twice) = (
  input,
  events,
  last,
  run,
  λ nests.
      inner_values_exist program input events last run object_x (ends (Assigning twice.0)) twice.1 twice.2 twice.3
      (subst (NestInside (shapes_of program.types.items)) twice.3 nests).0 twice.4,
)

pub premise_is_needed : PremiseIsNeeded
premise_is_needed = (program, bodies, form, well_formed, assigns_whole, not_inside treats_twice)
