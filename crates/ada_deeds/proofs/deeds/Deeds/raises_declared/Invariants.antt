use Rattle.std.proofs.Common.{◌≡◌, ℕ, ◌<◌, false}
use Rattle.ada_deeds.specs.Rows.{does_in}
use Rattle.ada_deeds.specs.declared.deed.Callee.TheVariants as callee
use Rattle.ada_deeds.specs.declared.deed.Deed.TheVariants as deed
use Rattle.ada_program.specs.declared.program.Exception.TheVariants.{Declared}
use Rattle.ada_deeds.proofs.deeds.Deeds.raises_declared.Given as goal

-- none of those so far does
abbrev pub invariant-numbers : goal.invariant-numbers
invariant-numbers l = (n : ℕ) → n < l.number → does_in l.self (deed.Raises (Declared (record { 0 = n }))) (callee.Procedure l.procedure) ≡ false
