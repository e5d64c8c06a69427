use Rattle.std.proofs.Common.{◌≡◌, Bool, ◌||◌, drop}
use Rattle.std.specs.List.{list_any}
use Rattle.ada_effects.specs.Found.{is_found, left_of}
use Rattle.ada_effects.specs.Taken.{set_of}
use Rattle.ada_program.specs.declared.program.Exception.{Exception}
use Rattle.ada_effects.proofs.found.Found.add_all.Given as goal

-- what is left tells of all
abbrev pub invariant-exceptions : goal.invariant-exceptions
invariant-exceptions l = (among : Exception → Bool) →
    (is_found l.self among || list_any (left_of (set_of l.taken) among) (drop l.exception-index l.exceptions))
    ≡ (is_found l.fn.self among || list_any (left_of (set_of l.taken) among) l.exceptions)
