use Rattle.std.proofs.Common.{◌≡◌, ℕ, ◌+◌, length, map, sym, subst, arith}
use Rattle.std.proofs.lemmas.List.{length-map}
use Rattle.ada_program.specs.ProgramForm.{program_form, body_form}
use Rattle.ada_quiet.specs.First.{IsFirst}
use Rattle.ada_circles.proofs.Asking.{Below, below_more, below_all}
use Rattle.ada_circles.proofs.first.first_circle.Goals as goal

-- that of one procedure more
pub procedures-preserved : goal.procedures-preserved
procedures-preserved c =
    let p = program_form c.args.program.now in
    subst (IsFirst (Below p (c.procedures.number + 1))) (sym c.first_of-first.ensures)
    (below_more p c.procedures.number c.procedures.first c.in_ok-found.found c.procedures.invariant c.in_ok-found.ensures)

-- behind the last procedure all are examined
pub returns : goal.returns
returns c =
    let program = c.args.program.now in
    let p = program_form program in
    let size : c.procedures.number ≡ length (map body_form program.procedures.items) =
    omega (
      arith,
      c.len-number-end.ensures,
      c.procedures.auto.number-end,
      c.procedures-test.false,
      program.procedures.ok.0,
      length-map program.procedures.items body_form,
    ) in
    below_all p c.procedures.first (subst (λ (n : ℕ). IsFirst (Below p n) c.procedures.first) size c.procedures.invariant)
