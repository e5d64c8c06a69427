use Rattle.std.proofs.Common.{◌||◌, sym, ap, ◌∙◌}
use Rattle.ada_deeds.specs.Begins.{nothing_does, begins_in}
use Rattle.ada_deeds.specs.declared.deed.Deed.TheVariants as deed
use Rattle.ada_deeds.proofs.Begun.{itself_alone}
use Rattle.ada_program.specs.Kept.{types_in}
use Rattle.ada_program.specs.ProgramForm.{body_form}
use Rattle.ada_deeds.proofs.begins.begins_in.Goals as goal

-- nothing that is called does the deed
pub returns : goal.returns
returns c =
    sym (itself_alone c.find_in_body.new.found c.args.exception)
    ∙ c.in_ok-find_in_body.ensures deed.Allocates nothing_does
    ∙ ap (λ b. b || begins_in (types_in c.args.types.now) (deed.Raises c.args.exception) (body_form c.args.procedure.now)) (c.nothing-found.ensures (deed.Raises c.args.exception) nothing_does)
