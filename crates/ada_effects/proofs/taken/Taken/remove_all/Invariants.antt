use Rattle.std.proofs.Common.{◌≡◌, drop}
use Rattle.ada_effects.specs.Taken.{set_of, without}
use Rattle.ada_effects.proofs.taken.Taken.remove_all.Given as goal

-- those that are left leave as all do
abbrev pub invariant-exceptions : goal.invariant-exceptions
invariant-exceptions l = without (drop l.exception-index l.exceptions) (set_of l.self) ≡ without l.exceptions (set_of l.fn.self)
