-- A component that is not there, or is not alike, is told by what is left.
use Rattle.std.proofs.Common.{◌≡◌, ℕ, zero, suc, ◌<◌, ◌≤◌, false, List, [], ◌∷◌, length, drop, refl, arith}
use Rattle.std.proofs.lemmas.Grind.{common_steps}
use Rattle.ada_program.specs.declared.program.ComponentKind.{ComponentKind}
use Rattle.ada_program.specs.WellFormed.{begins_with}
use Rattle.ada_program.proofs.records.begins_with.Goals as goal
use Rattle.ada_program.proofs.records.begins_with.Goals.{in-None, in-Some}

-- where components end, no further one is there
none_there : (cs ks : List ComponentKind) (i : ℕ) → i < length ks → length cs ≤ i → begins_with (drop i cs) (drop i ks) ≡ false
none_there cs [] i inside past = grind arith
none_there [] (k ∷ ks) zero inside past = refl
none_there (c ∷ cs) (k ∷ ks) zero inside past = grind arith
none_there [] (k ∷ ks) (suc i) inside past = grind (arith, common_steps, none_there [] ks i)
none_there (c ∷ cs) (k ∷ ks) (suc i) inside past = none_there cs ks i (omega arith) (omega arith)

pub returns-then-not-alike : goal.returns-then-not-alike
returns-then-not-alike c =
    elim c.match-get.branch [
      | in-None w ↦ grind (arith, common_steps, none_there c.args.components.now c.args.wanted.now c.loop-at.at)
      | in-Some w ↦ grind (arith, common_steps)
    ]
