-- The value of a part is finalized.

use Rattle.std.proofs.Common.{◌≡◌, ℕ, ◌+◌, true, List, ◌∷◌, Option, Some, refl, sym, ap, ◌∙◌, inl, inr, subst, arith}
use Rattle.std.specs.List.{slice_get, slice_set}
use Rattle.ada_program.specs.declared.program.TypeDefinition.{TypeDefinition}
use Rattle.ada_program.specs.Controlled.{shapes_of}
use Rattle.ada_parts.specs.Shape.{Shape}
use Rattle.ada_parts.specs.Part.{Part}
use Rattle.ada_parts.specs.Task.{Task, performs}
use Rattle.ada_parts.specs.Law.{parts_left}
use Rattle.ada_meaning.specs.declared.state.Value.{Value}
use Rattle.ada_meaning.specs.declared.state.Stage.TheVariants.{Existing}
use Rattle.ada_meaning.specs.declared.event.Cause.{Cause}
use Rattle.ada_meaning.specs.Event.{Finalized}
use Rattle.ada_meaning.specs.Frame.{Treatment, begins, ends}
use Rattle.ada_meaning.specs.Heap.{PartState}
use Rattle.ada_meaning.specs.Named.{Object, State, treated, finalized_part, finalize}
use Rattle.ada_meaning.specs.Run.{Event}
use Rattle.ada_meaning.specs.Finalization.{EndedPart}
use Rattle.ada_finalized.proofs.Counts.{one_if, count}
use Rattle.ada_finalized.proofs.Treated.{clearing_performed, clearing_inside}
use Rattle.ada_finalized.proofs.Ranks.{Heap, rank_of, rank_by, rank_at, on_is, risen}
use Rattle.ada_finalized.proofs.Doings.{name, same_name, Doing, Treating, doings, IsLeft, of_treatments, fewer_treatments, Fewer, Differs, apart_ended, on_same, on_other, gains, losses}
use Rattle.ada_finalized.proofs.Claims.{Claimed, Claims, claims_part}
use Rattle.ada_finalized.proofs.Invariant.{AllSane, Clears, Fine, Inv, inv_fewer, caused_on, fine_on, StaysThere, there_on, Stands, stands_on, Origin, goes_on, NotLeft, Told, finalizes, Goes, Passed, GoesOn, origins_kept}
use Rattle.ada_finalized.proofs.Going.{one_here, other_here, sane_treated, sane_set, stays_set, sane_out}

pub clears_of :
    (types : List TypeDefinition) (past : List Event) (xs : Heap) (next o : ℕ) (cause : Cause) (tasks : List Task)
    → Fine types past xs next (Treating (name o) (ends cause) tasks) → Clears types xs next o cause tasks
clears_of types past xs next o cause tasks (i, (is, c)) = subst (λ (j : ℕ). Clears types xs next j cause tasks) (sym (same_name o i is)) c

-- What is finalized by the same cause.
none_other :
    (shapes : List Shape) (t : EndedPart) (o : ℕ) (cause : Cause) (tasks : List Task) (w : Value) (treatment : Treatment) (left : List Task) → t.cause ≡ cause
    → t.treated.object.0 ≡ o → Differs (Treating (name o) (ends cause) tasks) (Treating w treatment left) → NotLeft shapes t w treatment left
none_other shapes t o cause tasks w (begins by done) left same_cause same_o differs v_is t_is = absurd (cc t_is)
none_other shapes t o cause tasks w (ends other) left same_cause same_o differs v_is t_is =
    let one : other ≡ t.cause = cc t_is in absurd (differs (sym (v_is ∙ ap name same_o)) (sym same_cause ∙ sym one))

module _ (types : List TypeDefinition) (past : List Event) (s : State) (o : ℕ) (x : Object) (at_o : slice_get s.heap o ≡ Some x) (stage : x.stage ≡ Existing) (of n : ℕ) (cause : Cause) (tasks : List Task) (ds : List Doing) (is : doings s.control ≡ Treating (name o) (ends cause) (performs of n ∷ tasks) ∷ ds) (inv : Inv types past s.heap s.next (doings s.control)) (p : PartState) (at_n : slice_get x.cell.parts n ≡ Some p) (alive : p.alive ≡ true) where
  abbrev shapes : List Shape
  shapes = shapes_of types

  abbrev part : Part
  part = record { of = of; number = n }

  abbrev ended : EndedPart
  ended = record { treated = record { object = record { 0 = o }; part = part }; cause = cause }

  abbrev left : List Part
  left = parts_left (shapes_of types) tasks

  abbrev before : List Doing
  before = Treating (name o) (ends cause) (performs of n ∷ tasks) ∷ ds

  abbrev later : List Doing
  later = Treating (name o) (ends cause) tasks ∷ ds

  inv_before : Inv types past s.heap s.next before
  inv_before = subst (Inv types past s.heap s.next) is inv

  cleared : Clears types s.heap s.next o cause (performs of n ∷ tasks)
  cleared = clears_of types past s.heap s.next o cause (performs of n ∷ tasks) inv_before.fine.0

  claimed : one_if p.alive + gains shapes o n before ≡ 1 + losses shapes o n before
  claimed = subst (λ (found : Option Object). Claimed found n (gains shapes o n before) (losses shapes o n before)) at_o (inv_before.claims o n) stage p at_n

  y : Object
  y = treated finalized_part n x

  claims_later : Claims shapes (slice_set s.heap o y) later
  unfolding y
  claims_later =
      claims_part shapes s.heap finalized_part o n x p before later at_o at_n
      (λ j m ne. let a = on_other o j (count m left) ne in let b = on_other o j (count m (part ∷ left)) ne in omega (arith, a, b))
      (λ m ne. let a = on_same o (count m left) in let b = on_same o (count m (part ∷ left)) in let c = other_here part left m ne in omega (arith, a, b, c))
      (let a = on_same o (count n left) in
      let b = on_same o (count n (part ∷ left)) in
      let c = one_here part left in
      let d = claimed in
      let one = ap one_if alive in
      omega (arith, a, b, c, d, one))
      inv_before.claims

  module _ (after : State) (passed : Passed s after) (heap : after.heap ≡ finalize s.heap (name o) n) (fewer : Fewer later (doings after.control)) where
    e : Event
    e = Finalized (name o) n p.turn of p.number cause

    changes : after.heap ≡ slice_set s.heap o y
    unfolding y
    changes = heap ∙ on_is (treated finalized_part n) s.heap o x at_o

    inv_later : Inv types (e ∷ past) after.heap after.next later
    unfolding y
    inv_later = record {
      fine = (
        (o, (refl, record { clearing = clearing_performed shapes of n tasks cleared.clearing; caused = caused_on types past e s.heap after.heap s.next after.next passed.keeps passed.grows o cause cleared.caused })),
        fine_on types past e s.heap after.heap s.next after.next passed.keeps passed.grows ds inv_before.fine.1,
      );
      apart = apart_ended (name o) cause (performs of n ∷ tasks) tasks ds inv_before.apart;
      claims = subst (λ (xs : Heap). Claims shapes xs later) (sym changes) claims_later;
      sane = subst (AllSane types) (sym changes) (sane_set types s.heap o x y at_o (sane_treated types finalized_part n x stage (inv_before.sane o x at_o)) inv_before.sane);
      there = there_on s.heap after.heap before (subst (StaysThere s.heap) (sym changes) (stays_set s.heap o x y at_o (λ was. was))) (inv_before.there);
    }

    is_left : IsLeft (name o) (ends cause) (performs of n ∷ tasks) (doings s.control)
    is_left = subst (IsLeft (name o) (ends cause) (performs of n ∷ tasks)) (sym is) (inl refl)

    told : Told types past s e after
    unfolding e y
    told =
        finalizes o n of p.turn p.number cause tasks refl
        (let a = ap (λ (found : Option Object). rank_by found n) at_o ∙ ap rank_of at_n in let one = ap one_if alive in omega (arith, a, one))
        (λ j m. ap (λ (xs : Heap). rank_at xs j m) changes ∙ risen s.heap finalized_part o n x p at_o at_n (let one = ap one_if alive in omega (arith, one)) j m)
        (x, (at_o, sane_out types x stage (inv_before.sane o x at_o)))
        (caused_on types past e s.heap after.heap s.next after.next passed.keeps passed.grows o cause cleared.caused) is_left
        (fewer_treatments (NotLeft shapes ended) later (doings after.control) fewer (
          (λ v_is t_is. let a = cleared.clearing.once n in let c = one_here part left in omega (arith, a, c)),
          of_treatments (Differs (Treating (name o) (ends cause) (performs of n ∷ tasks))) (NotLeft shapes ended) ds
              (λ w treatment rest differs. none_other shapes ended o cause (performs of n ∷ tasks) w treatment rest refl refl differs) inv_before.apart.0,
        ))
        (λ m lies. clearing_inside shapes of n tasks cleared.clearing m lies)

    goes : Stands types s.heap after → Goes types past s (Finalized (name o) n p.turn of p.number cause) after
    unfolding e
    goes stands = record {
      fits = record { stands = stands_on types s.heap after passed.keeps stands; inv = inv_fewer types (e ∷ past) after.heap after.next later (doings after.control) fewer inv_later };
      told = told;
      origins = fewer_treatments (Origin types s) later (doings after.control) fewer (
        goes_on (ends cause) (performs of n ∷ tasks) is_left refl (λ m. omega arith),
        origins_kept types s ds (λ w treatment rest there. subst (IsLeft w treatment rest) (sym is) (inr there)),
      );
    }

  -- So it goes on.
  pub ended_goes :
      (after : State) → after.heap ≡ finalize s.heap (name o) n → Fewer later (doings after.control) → Stands types s.heap after
      → GoesOn types past s (Finalized (name o) n p.turn of p.number cause) after
  ended_goes after heap fewer stands passed = goes after passed heap fewer stands
