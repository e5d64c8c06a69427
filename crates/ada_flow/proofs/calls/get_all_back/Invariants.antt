use Rattle.std.proofs.Common.{◌≡◌, drop, map}
use Rattle.ada_flow.specs.Flow.{handed_back}
use Rattle.ada_program.specs.Form.{actual_form}
use Rattle.ada_flow.proofs.calls.get_all_back.Given as goal

-- what is left comes back besides
abbrev pub invariant-actuals : goal.invariant-actuals
invariant-actuals l =
    handed_back (map actual_form (drop l.actual-index l.actuals)) l.known.holds.items ≡ handed_back (map actual_form l.actuals) l.fn.known.holds.items
