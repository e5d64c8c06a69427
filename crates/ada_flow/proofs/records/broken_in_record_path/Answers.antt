use Rattle.std.proofs.Common.{Bool, ◌||◌, sym, ap, ◌∙◌}
use Rattle.ada_effects.specs.Found.{has_number}
use Rattle.ada_program.specs.Form.{record_path_form}
use Rattle.ada_flow.specs.Flow.{hold_seen, passed_by, record_passes}
use Rattle.ada_flow.specs.Told.{tracks_around, types_in, variables_in}
use Rattle.ada_flow.proofs.Initialized.{record_either}
use Rattle.ada_flow.proofs.records.broken_in_record_path.Goals as goal

pub returns : goal.returns
returns c =
    let types = types_in c.args.around.now in
    let variables = variables_in c.args.around.now in
    let path = record_path_form c.args.path.now in
    c.broken_in_passing.ensures
    ∙ ap (λ (b : Bool). passed_by b (hold_seen (tracks_around c.args.around.now) c.args.holds.now path.object) path.object.spot)
    (ap (λ (b : Bool). b || record_passes types variables (has_number c.args.adjusted.now) path) c.record_passes-passes.ensures
    ∙ sym (record_either types variables c.args.ended.now c.args.adjusted.now path))
