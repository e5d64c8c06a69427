-- A program whose Initialize assigns to a component of its formal parameter, and the Finalize of that to a component of its own, meets the premises, which are needed.

use Rattle.std.specs.Prelude.{◌≡◌, true, false, [], ◌∷◌}
use Rattle.ada_program.specs.declared.program.Program.{Program}
use Rattle.ada_program.specs.Controlled.{shapes_of, operations_of}
use Rattle.ada_program.specs.Form.{stmt_forms}
use Rattle.ada_program.specs.ProgramForm.{program_form, body_forms}
use Rattle.ada_program.specs.WellFormed.{IsWellFormed}
use Rattle.ada_meaning.specs.Named.{State}
use Rattle.ada_order.specs.Example.{InSomeRun}
use Rattle.ada_finalized.specs.Example.{assigning_finalize, object_stmts}
use Rattle.ada_finalized.specs.Nested.{nested_shapes, inner_finalizes, outer_initializes, nested_finalize, nested_initialize, nested_stmts, TreatsInnermost}
use Rattle.ada_assigned.specs.Law.{operations_assign_inside, CalledAssignBeside}
use Rattle.ada_inside.specs.Law.{NestInside, IsLeftApart}

-- A part of X is finalized next, by an assignment in the Finalize of a component, and the Initialize of X runs behind that; and all that is inside of each other.
abbrev pub NestsInnermost : Program → State → Type 0
NestsInnermost program s = TreatsInnermost program s × NestInside (shapes_of program.types.items) s.control × IsLeftApart s

-- A well-formed program with these types, operations and statements meets the premises, and comes to that.
abbrev pub PremisesAreMet : Type 0
PremisesAreMet =
    (program : Program) × (shapes_of program.types.items ≡ nested_shapes) × (operations_of program.types.items 1 ≡ inner_finalizes)
    × (operations_of program.types.items 2 ≡ outer_initializes) × (body_forms program ≡ nested_finalize ∷ nested_initialize ∷ [])
    × (stmt_forms program ≡ nested_stmts) × IsWellFormed (program_form program)
    × (operations_assign_inside (program_form program) (λ t. true) (λ procedure. false) ≡ true) × CalledAssignBeside (program_form program) (λ procedure. false)
    × InSomeRun program (λ events last. NestsInnermost program last)

-- Another well-formed program, whose Finalize assigns to its formal parameter as a whole, comes to an assignment that is not inside of the Finalize.
abbrev pub PremiseIsNeeded : Type 0
PremiseIsNeeded =
    (program : Program) × (body_forms program ≡ assigning_finalize ∷ []) × (stmt_forms program ≡ object_stmts) × IsWellFormed (program_form program)
    × (operations_assign_inside (program_form program) (λ t. true) (λ procedure. false) ≡ false)
    × InSomeRun program (λ events last. NestInside (shapes_of program.types.items) last.control → ⊥)
