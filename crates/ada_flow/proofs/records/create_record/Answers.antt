use Rattle.std.proofs.Common.{◌||◌, ℕ, true}
use Rattle.ada_effects.specs.Effects.{initial_frees, initial_raises, initial_starts}
use Rattle.ada_program.specs.Form.{initial_items}
use Rattle.ada_flow.specs.Flow.{declared_at, uses_in_initial}
use Rattle.ada_flow.specs.Told.{implicit_around, noted, tracks_around, types_in, variables_in}
use Rattle.ada_flow.proofs.Initialized.{creation_ends}
use Rattle.ada_flow.proofs.records.create_record.Goals as goal

pub returns : goal.returns
returns c =
    let variables = variables_in c.args.around.now in
    let implicit = implicit_around c.args.around.now in
    let object = c.args.object.0 in
    let items = initial_items c.args.initial.now in
    let uses = uses_in_initial (types_in c.args.around.now) (declared_at variables c.args.variable.0) object items in
    rw (c.put.ensures, c.in_ok-note_if.ensures, c.creation_raises.ensures)
    (creation_ends (noted c.args.raised.now) variables (tracks_around c.args.around.now) c.freed_at_first-freed.result.now (λ (t : ℕ). initial_frees implicit t object items)
    (initial_raises items || initial_starts implicit (λ e. true) object items) uses c.args.known.now.holds.items c.forget_freed.new.known.holds.items c.args.variable.0
    c.freed_at_first-freed.ensures (rw (← c.declared_at-spot.ensures, ← c.holds.ensures) c.in_ok-use_initial.ensures) c.in_ok-forget_freed.ensures)
