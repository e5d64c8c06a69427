-- The example: what comes out of two procedures that call one another.

use Rattle.std.proofs.Common.{◌≡◌, ◌==◌, ℕ, zero, suc, Bool, true, false, nat_lt, refl, sym, subst}
use Rattle.std.proofs.lemmas.Bool.{eqb-true}
use Rattle.ada_deeds.specs.Does.{callee_does, Does, does}
use Rattle.ada_deeds.specs.Example.{program, raising, BothRaise, TheThirdDoesNot}
use Rattle.ada_deeds.specs.Laws.{IsClosed}
use Rattle.ada_deeds.specs.declared.deed.Callee.{Callee}
use Rattle.ada_deeds.specs.declared.deed.Callee.TheVariants as callee
use Rattle.ada_deeds.proofs.More.{least}

second : Does program raising (callee.Procedure (record { 0 = 1 }))
second = does refl (λ c. false) (λ c h. absurd (cc h)) refl

abbrev is_second : Callee → Bool
is_second (callee.Procedure i) = i.0 == 1
is_second (callee.Parts o t) = false

each : (c : Callee) → is_second c ≡ true → Does program raising c
each (callee.Procedure i) h = subst (λ (n : ℕ). Does program raising (callee.Procedure (record { 0 = n }))) (sym (eqb-true i.0 1 h)) second
each (callee.Parts o t) h = absurd (cc h)

pub both : BothRaise
both = (does refl is_second each refl, second)

-- The first two are a closed set.
abbrev first_two : Callee → Bool
first_two (callee.Procedure i) = nat_lt i.0 2
first_two (callee.Parts o t) = false

stays : (n : ℕ) → callee_does program first_two raising (callee.Procedure (record { 0 = n })) ≡ true → nat_lt n 2 ≡ true
stays zero h = refl
stays (suc zero) h = refl
stays (suc (suc zero)) h = absurd (cc h)
stays (suc (suc (suc n))) h = absurd (cc h)

closed : IsClosed program raising first_two
closed (callee.Procedure i) h = stays i.0 h
closed (callee.Parts o t) h = absurd (cc h)

pub third : TheThirdDoesNot
third = λ d. let h : false ≡ true = least program raising first_two closed (callee.Procedure (record { 0 = 2 })) d in absurd (cc h)
