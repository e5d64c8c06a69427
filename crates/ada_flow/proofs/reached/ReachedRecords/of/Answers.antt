use Rattle.std.proofs.Common.{◌≡◌, ℕ, length, inl, inr, sym, ap, subst, arith}
use Rattle.std.proofs.lemmas.Bool.{cases_lt}
use Rattle.std.proofs.lemmas.Option.{slice_get_past}
use Rattle.std.specs.Global.{Vec}
use Rattle.std.specs.Prelude.{Bool, false, Option}
use Rattle.ada_effects.specs.declared.implicit.AccessTypes.{AccessTypes}
use Rattle.ada_effects.specs.Found.{implicit_in, is_listed}
use Rattle.ada_flow.specs.Reached.{IsRow}
use Rattle.ada_flow.proofs.Parts.{no_row}
use Rattle.ada_program.specs.Kept.{types_in}
use Rattle.ada_flow.proofs.reached.ReachedRecords.of.Goals as goal

pub returns : goal.returns
returns c = λ u.
    let types = types_in c.args.types.now in
    let reached = c.args.implicit.now.reached.items in
    let rows = c.accesses.rows.items in
    let may = (implicit_in c.args.implicit.now).end_reaches u in
    elim (cases_lt u c.accesses.one-index) [
      | inl before ↦ c.accesses.invariant.each u before
      | inr past ↦
          let size = ap length c.deref-one-items.ensures.value in
          let nothing : (t : ℕ) → may t ≡ false = λ t. ap (λ (o : Option AccessTypes). is_listed o t) (slice_get_past reached u (omega (arith, past, size, c.accesses-test.false))) in
          subst (λ (row : Option (Vec Bool)). IsRow types may row) (sym (slice_get_past rows u (omega (arith, past, c.accesses.invariant.size))))
          (no_row types may nothing)
    ]
