use Rattle.std.proofs.Common.{◌≤◌, length, inl, inr, arith}
use Rattle.std.proofs.lemmas.Bool.{cases_lt}
use Rattle.std.proofs.lemmas.Grind.{common_steps}
use Rattle.ada_deeds.specs.declared.deed.Callee.TheVariants as callee
use Rattle.ada_deeds.proofs.Exact.{none_beyond}
use Rattle.ada_deeds.proofs.deeds.Deeds.raises_declared.Goals as goal

-- none of the rows marks the procedure
pub returns-clause-none : goal.returns-clause-none
returns-clause-none c = λ h n.
    let ended : length c.args.self.now.declared.items ≤ c.numbers.number = grind (arith, common_steps, c.numbers-test.false, c.len-number-end.ensures) in
    elim (cases_lt n c.numbers.number) [
      | inl lt ↦ c.numbers.invariant n lt
      | inr le ↦ none_beyond c.args.self.now n (callee.Procedure c.args.procedure) (omega (arith, ended, le))
    ]
