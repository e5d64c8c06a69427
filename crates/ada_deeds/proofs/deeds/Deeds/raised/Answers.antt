use Rattle.std.proofs.Common.{List, ◌++◌, [], ◌∷◌, ap, sym, ◌∙◌}
use Rattle.std.specs.List.{filter}
use Rattle.ada_deeds.specs.Rows.{is_raised}
use Rattle.ada_deeds.proofs.Table.{exceptions_more}
use Rattle.ada_program.specs.declared.program.Exception.{Exception}
use Rattle.ada_program.specs.declared.program.Exception.TheVariants.{Declared}
use Rattle.ada_deeds.proofs.deeds.Deeds.raised.Goals as goal

-- one declared exception more
pub numbers-preserved : goal.numbers-preserved
numbers-preserved c =
    c.in_ok-add_raised-5.ensures ∙
    ap (λ (es : List Exception). es ++ filter (is_raised c.args.self.now) (Declared (record { 0 = c.numbers.number }) ∷ [])) c.numbers.invariant ∙
    sym (exceptions_more c.args.self.now c.numbers.number)
