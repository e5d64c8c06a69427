use Rattle.std.proofs.Common.{◌≡◌, drop}
use Rattle.std.specs.List.{list_any}
use Rattle.ada_deeds.specs.Rows.{does_in}
use Rattle.ada_deeds.proofs.statements.some_does.Given as goal

-- what is left tells of all
abbrev pub invariant-callees : goal.invariant-callees
invariant-callees l = list_any (does_in l.deeds l.deed) (drop l.callee-index l.callees) ≡ list_any (does_in l.deeds l.deed) l.callees
