use Rattle.std.proofs.Common.{map, ap, ◌∙◌, subst}
use Rattle.ada_program.specs.Form.{item_form, record_path_form}
use Rattle.ada_flow.specs.Implicit.{frees_either}
use Rattle.ada_flow.specs.Told.{Follows, broken, tracks_around, types_in, variables_in}
use Rattle.ada_flow.specs.Flow.{leftmost}
use Rattle.ada_flow.proofs.Initialized.{assignment_breaks}
use Rattle.ada_flow.proofs.records.use_record.Goals as goal

pub returns : goal.returns
returns c =
    subst (λ b. Follows c.unless_broken.result b)
    (c.leftmost.ensures ∙ ap (leftmost (broken c.broken_in_record_path-to.result)) c.leftmost-copied.ensures
    ∙ assignment_breaks (types_in c.args.around.now) (variables_in c.args.around.now) (tracks_around c.args.around.now) (frees_either c.args.ended.now c.args.adjusted.now) (record_path_form c.args.target.now)
    (map item_form c.args.items.now) c.args.holds.now (broken c.broken_in_record_path-to.result) (broken c.broken_in_given-given.result) (broken c.broken_in_source-source.result)
    c.broken_in_record_path-to.ensures (rw (← c.gathers_owners-owning.ensures) c.broken_in_given-given.ensures) c.broken_in_source-source.ensures)
    c.unless_broken.ensures
