use Rattle.std.proofs.Common.{◌≡◌, drop, map}
use Rattle.ada_flow.specs.Flow.{left_unkept}
use Rattle.ada_program.specs.Form.{actual_form}
use Rattle.ada_flow.proofs.calls.lose_unkept.Given as goal

-- what is left loses the rest
abbrev pub invariant-loop-number : goal.invariant-loop-number
invariant-loop-number l =
    left_unkept (drop l.number l.kept) (map actual_form (drop l.number l.actuals)) l.known.holds.items ≡ left_unkept l.kept (map actual_form l.actuals) l.fn.known.holds.items
