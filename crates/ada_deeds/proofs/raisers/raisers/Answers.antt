use Rattle.std.proofs.Common.{◌≡◌, false, ◌∙◌, sym, subst}
use Rattle.ada_deeds.specs.Begins.{begins}
use Rattle.ada_deeds.specs.Graph.{MarksDoers}
use Rattle.ada_deeds.specs.declared.deed.Deed.TheVariants as deed
use Rattle.ada_deeds.proofs.Begun.{none_is_marked}
use Rattle.ada_program.specs.ProgramForm.{program_form}
use Rattle.ada_deeds.proofs.raisers.raisers.Goals as goal

-- it comes out of no body itself
pub returns-then-not-is_begun : goal.returns-then-not-is_begun
returns-then-not-is_begun c =
    let p = program_form c.args.program.now in
    let d = deed.Raises c.args.exception in
    let none : begins p d ≡ false = sym c.in_ok-is_begun.ensures ∙ c.if-not-is_begun.true in
    subst (MarksDoers p d c.args.nodes.procedures c.args.nodes.types) (sym c.new.ensures.items) (none_is_marked p d c.args.nodes.procedures c.args.nodes.types none)
