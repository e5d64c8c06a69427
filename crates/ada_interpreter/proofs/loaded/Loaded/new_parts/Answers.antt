-- An object without controlled parts has none; others have those of their record.
use Rattle.std.proofs.Common.{sym, ◌∙◌}
use Rattle.ada_interpreter.proofs.LayoutLemmas.{new_known, none_new}
use Rattle.ada_interpreter.proofs.loaded.Loaded.new_parts.Goals as goal
use Rattle.ada_interpreter.proofs.loaded.Loaded.new_parts.Goals.{in-Some+in-Some-parts+in_ok-reserve+in_ok-push_parts, in_default}

pub returns : goal.returns
returns c =
    let types = c.args.self.now.program.now.types.items in
    elim c.match-number_reached.branch [
      | in-Some+in-Some-parts+in_ok-reserve+in_ok-push_parts w ↦
          rw (w.parts-is, w.in_ok-push_parts.ensures, w.in_ok-reserve.ensures.items, c.new-parts.ensures.items)
          (new_known types c.args.access.0 w.in-Some.number (sym w.in-Some.is ∙ c.number_reached.ensures))
      | in_default w ↦
          rw (w.parts-is, c.new-parts.ensures.items) (none_new types c.args.access.0 (sym w.in_default.is ∙ c.number_reached.ensures))
    ]
