use Rattle.std.proofs.Common.{◌∙◌, refl, sym}
use Rattle.std.proofs.lemmas.List.{length-map}
use Rattle.ada_deeds.specs.declared.deed.Deed.TheVariants as deed
use Rattle.ada_program.specs.ProgramForm.{body_form, type_form}
use Rattle.ada_deeds.proofs.rounds.Rounds.new.Goals as goal

-- nothing is sought but calls
pub returns : goal.returns
returns c = record {
  procedures = c.in_ok-nodes.ensures.procedures ∙ sym (length-map c.args.program.now.procedures.items body_form);
  types = c.in_ok-nodes.ensures.types ∙ sym (length-map c.args.program.now.types.items type_form);
  graph = c.in_ok-calls.ensures.graph deed.Calls refl;
}
