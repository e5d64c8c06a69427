-- The place of its number is the type's.
use Rattle.std.proofs.Common.{Option, Some, map, sym, ap, ◌∙◌, ℕ}
use Rattle.std.specs.Option.{option_copied}
use Rattle.std.proofs.lemmas.List.{map-set}
use Rattle.ada_quiet.specs.Known.{placed}
use Rattle.ada_quiet.proofs.numbered.enter.Goals as goal

pub returns-then-number-table : goal.returns-then-number-table
returns-then-number-table c =
    map-set option_copied c.args.table.now c.in-Some.number (Some c.args.definition)
    ∙ sym (ap (λ (o : Option ℕ). placed o c.args.definition.now (map option_copied c.args.table.now)) (sym c.number_by.ensures ∙ c.in-Some.is))
