-- The program that a tree means is well formed, its collections nest, and it frees its own.
use Rattle.std.proofs.lemmas.Result.{IfOk-weaker}
use Rattle.ada_tree.specs.StatementView.{unit_of}
use Rattle.ada_program.specs.Freed.{FreesItsOwn}
use Rattle.ada_program.specs.Nested.{CollectionsNest}
use Rattle.ada_program.specs.ProgramForm.{program_form}
use Rattle.ada_program.specs.WellFormed.{IsWellFormed}
use Rattle.ada_resolve.specs.Resolution.{Resolves}
use Rattle.ada_resolve.proofs.program.resolve.Goals as goal

pub returns-clause-well_formed : goal.returns-clause-well_formed
returns-clause-well_formed c =
    IfOk-weaker c.whole_program.result (λ p. Resolves (unit_of c.args.unit.now) (program_form p)) (λ p. IsWellFormed (program_form p))
    (λ p means. c.programs_are_well_formed.ensures (unit_of c.args.unit.now) (program_form p) means) c.whole_program.ensures.resolves

pub returns-clause-nests : goal.returns-clause-nests
returns-clause-nests c =
    IfOk-weaker c.whole_program.result (λ p. Resolves (unit_of c.args.unit.now) (program_form p)) (λ p. CollectionsNest (program_form p))
    (λ p means. c.collections_nest.ensures (unit_of c.args.unit.now) (program_form p) means) c.whole_program.ensures.resolves

pub returns-clause-frees_own : goal.returns-clause-frees_own
returns-clause-frees_own c =
    IfOk-weaker c.whole_program.result (λ p. Resolves (unit_of c.args.unit.now) (program_form p)) (λ p. FreesItsOwn (program_form p))
    (λ p means. c.programs_free_their_own.ensures (unit_of c.args.unit.now) (program_form p) means) c.whole_program.ensures.resolves
