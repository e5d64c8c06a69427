use Rattle.std.proofs.Common.{◌≡◌, ◌++◌, drop}
use Rattle.ada_deeds.specs.Rows.{does_in}
use Rattle.ada_deeds.specs.Table.{coming_out}
use Rattle.ada_deeds.proofs.deeds.Deeds.start_exceptions.Given as goal

-- those found so far, and those of what is left, are all
abbrev pub invariant-exceptions : goal.invariant-exceptions
invariant-exceptions l =
    l.list.items ++ coming_out (does_in l.self) l.record_type (drop l.exception-index l.raised)
    ≡ coming_out (does_in l.self) l.record_type l.raised
