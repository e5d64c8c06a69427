use Rattle.std.proofs.Common.{◌≡◌, ℕ, ◌+◌, length, map, sym, subst, arith}
use Rattle.std.proofs.lemmas.List.{length-map}
use Rattle.ada_operations.specs.View.{IsFirst, found_form}
use Rattle.ada_operations.proofs.Checking.{Below, below_more, below_all}
use Rattle.ada_program.specs.ProgramForm.{program_form, type_form}
use Rattle.ada_operations.proofs.check.first_fault.Goals as goal

pub types-preserved : goal.types-preserved
types-preserved c =
    let p = program_form c.args.program.now in
    subst (IsFirst (Below p (c.types.number + 1))) (sym c.first_of-first.ensures)
    (below_more p c.types.number (found_form c.types.first) (found_form c.in_ok-found.found) c.types.invariant c.in_ok-found.ensures)

pub returns : goal.returns
returns c =
    let program = c.args.program.now in
    let p = program_form program in
    let size : c.types.number ≡ length (map type_form program.types.items) =
    omega (arith, c.len-number-end.ensures, c.types.auto.number-end, c.types-test.false, program.types.ok.0, length-map program.types.items type_form) in
    below_all p (found_form c.types.first) (subst (λ (n : ℕ). IsFirst (Below p n) (found_form c.types.first)) size c.types.invariant)
