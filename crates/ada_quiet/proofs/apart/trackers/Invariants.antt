use Rattle.std.proofs.Common.{◌≡◌, ◌&&◌, ◌||◌, ℕ, Some, map, drop}
use Rattle.std.specs.List.{list_any}
use Rattle.ada_program.specs.ProgramForm.{program_form, type_form}
use Rattle.ada_program.specs.WellFormed.{finalization_in}
use Rattle.ada_quiet.specs.Apart.{is_adjust_of, is_tracker}
use Rattle.ada_quiet.specs.Known.{is_marked}
use Rattle.ada_quiet.specs.Quiet.{has_access}
use Rattle.ada_quiet.proofs.apart.trackers.Given as goal

-- the marks so far, and the types that are left, tell of all
abbrev pub invariant-types : goal.invariant-types
invariant-types l = (n : ℕ) →
    (is_marked l.marks.items n
    || list_any (λ t. has_access (Some t) && is_adjust_of n (finalization_in (Some t))) (map type_form (drop l.definition-index l.program.types.items)))
    ≡ is_tracker (program_form l.program) n
