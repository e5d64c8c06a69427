use Rattle.std.proofs.Common.{◌≡◌, ℕ, length, map, subst, arith}
use Rattle.std.specs.Prelude.{Option}
use Rattle.std.proofs.lemmas.List.{length-map}
use Rattle.ada_text.specs.declared.spot.Spot.{Spot}
use Rattle.ada_program.specs.declared.program.Program.{Program}
use Rattle.ada_program.specs.ProgramForm.{program_form, type_form}
use Rattle.ada_quiet.specs.First.{BeginsUnused, IsFirst}
use Rattle.ada_quiet.proofs.Unused.{Below, below_all, none_exactly}
use Rattle.ada_quiet.proofs.first.first_uncallable.Goals as goal

-- behind the last type all are examined
behind_last : (program : Program) (number : ℕ) (first : Option Spot) → number ≡ length program.types.items
    → IsFirst (Below (program_form program) number) first → IsFirst (BeginsUnused (program_form program)) first
behind_last program number first is found =
    let here : number ≡ length (map type_form program.types.items) = omega (arith, is, length-map program.types.items type_form) in
    below_all (program_form program) first (subst (λ (n : ℕ). IsFirst (Below (program_form program) n) first) here found)

pub returns-clause-first : goal.returns-clause-first
returns-clause-first c =
    behind_last c.args.program.now c.types.number c.types.first
    (omega (arith, c.len-number-end.ensures, c.types.auto.number-end, c.types-test.false)) c.types.invariant

pub returns-clause-called : goal.returns-clause-called
returns-clause-called c =
    none_exactly (program_form c.args.program.now) c.types.first
    (behind_last c.args.program.now c.types.number c.types.first
    (omega (arith, c.len-number-end.ensures, c.types.auto.number-end, c.types-test.false)) c.types.invariant)
