use Rattle.std.proofs.Common.{◌≡◌, Some, None, map, subst}
use Rattle.std.proofs.lemmas.Result.{err_from_is_err_and}
use Rattle.ada_program.specs.Form.{item_form, record_path_form}
use Rattle.ada_flow.specs.Flow.{Holds, broken_among, uses_in_assignment}
use Rattle.ada_flow.specs.Implicit.{frees_either}
use Rattle.ada_flow.specs.Told.{implicit_around, noted, tracks_around, types_in, variables_in}
use Rattle.ada_flow.proofs.Initialized.{record_breaks, record_ends}
use Rattle.ada_flow.proofs.records.give_record.Goals as goal

pub returns-in_err-use_record : goal.returns-in_err-use_record
returns-in_err-use_record c =
    let breach = c.in_err-use_record.field-0.0 in
    let p = err_from_is_err_and c.from_residual.result c.from_residual.ensures.1 in
    rw (p.1, p.2) (record_breaks (noted c.args.raised.now) (types_in c.args.around.now) (variables_in c.args.around.now) (tracks_around c.args.around.now) (implicit_around c.args.around.now) (record_path_form c.args.target.now)
    (map item_form c.args.items.now) c.freed_at_end-ended.result.now c.freed_by_adjust-adjusted.result.now c.args.known.now.holds.items (breach.spot, breach.rule)
    c.freed_at_end-ended.ensures c.freed_by_adjust-adjusted.ensures (subst (λ (hs : Holds). broken_among (tracks_around c.args.around.now) hs (uses_in_assignment (types_in c.args.around.now) (variables_in c.args.around.now) (frees_either c.freed_at_end-ended.result.now c.freed_by_adjust-adjusted.result.now) (record_path_form c.args.target.now) (map item_form c.args.items.now)) ≡ Some (breach.spot, breach.rule))
    c.holds.ensures c.in_err-use_record.ensures))

pub returns : goal.returns
returns c =
    rw (c.in_ok-note_if.ensures, c.assignment_raises.ensures)
    (record_ends (noted c.args.raised.now) (types_in c.args.around.now) (variables_in c.args.around.now) (tracks_around c.args.around.now) (implicit_around c.args.around.now) (record_path_form c.args.target.now)
    (map item_form c.args.items.now) c.freed_at_end-ended.result.now c.freed_by_adjust-adjusted.result.now c.args.known.now.holds.items c.forget_freed.new.known.holds.items c.forget_freed-2.new.known.holds.items
    c.freed_at_end-ended.ensures c.freed_by_adjust-adjusted.ensures (subst (λ (hs : Holds). broken_among (tracks_around c.args.around.now) hs (uses_in_assignment (types_in c.args.around.now) (variables_in c.args.around.now) (frees_either c.freed_at_end-ended.result.now c.freed_by_adjust-adjusted.result.now) (record_path_form c.args.target.now) (map item_form c.args.items.now)) ≡ None)
    c.holds.ensures c.in_ok-use_record.ensures) c.in_ok-forget_freed.ensures c.in_ok-forget_freed-2.ensures)
