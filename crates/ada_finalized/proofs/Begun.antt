-- The value of a part comes to exist.

use Rattle.std.proofs.Common.{◌≡◌, ℕ, ◌+◌, List, ◌∷◌, Option, Some, refl, sym, ap, ◌∙◌, inl, inr, subst, arith}
use Rattle.std.specs.List.{slice_get, slice_set}
use Rattle.ada_program.specs.declared.program.TypeDefinition.{TypeDefinition}
use Rattle.ada_program.specs.Controlled.{shapes_of}
use Rattle.ada_parts.specs.declared.tasks.Direction.TheVariants.{PartsFirst}
use Rattle.ada_parts.specs.Shape.{Shape}
use Rattle.ada_parts.specs.Part.{Part}
use Rattle.ada_parts.specs.Task.{Task, performs}
use Rattle.ada_parts.specs.Law.{parts_left}
use Rattle.ada_meaning.specs.declared.state.Value.{Value}
use Rattle.ada_meaning.specs.declared.state.Stage.TheVariants.{Existing}
use Rattle.ada_meaning.specs.declared.state.Mode.TheVariants.{Running}
use Rattle.ada_meaning.specs.declared.event.Birth.{Birth}
use Rattle.ada_meaning.specs.declared.event.Cause.TheVariants.{Assigning}
use Rattle.ada_meaning.specs.Event.{Born}
use Rattle.ada_meaning.specs.Frame.{Treatment, begins, ends}
use Rattle.ada_meaning.specs.Heap.{PartState}
use Rattle.ada_meaning.specs.Step.{treating}
use Rattle.ada_meaning.specs.Named.{Object, State, treated, born_part, bear}
use Rattle.ada_meaning.specs.Run.{Event}
use Rattle.ada_meaning.specs.Finalization.{BegunPart, adjusted_by}
use Rattle.ada_finalized.proofs.Counts.{one_if, count}
use Rattle.ada_finalized.proofs.Treated.{cons_cases, get_within, performed, not_yet, inside_gone, all_inside_called, undoing_more}
use Rattle.ada_finalized.proofs.Ranks.{Heap, rank_of, rank_by, rank_at, set_same, on_is, risen}
use Rattle.ada_finalized.proofs.Doings.{name, same_name, Doing, Treating, doings, OfTreatments, IsLeft, of_treatments, fewer_treating, fewer_treatments, alike, Fewer, Differs, apart_begun, on_same, on_other, gains, losses}
use Rattle.ada_finalized.proofs.Stacks.{Control, code, Stack, Covers}
use Rattle.ada_finalized.proofs.Claims.{Claimed, Claims, claims_part}
use Rattle.ada_finalized.proofs.Invariant.{AllSane, begun_part, Recorded, Begins, Fine, Inv, inv_fewer, begins_on, fine_on, StaysThere, there_on, stands_on, Origin, goes_on, NoneInside, NotCleared, Told, bears, Goes, Passed, GoesOn, origins_kept}
use Rattle.ada_finalized.proofs.Going.{begins_stand, one_here, other_here, sane_treated, sane_set, stays_set, sane_out}

pub begins_of :
    (types : List TypeDefinition) (past : List Event) (xs : Heap) (next o : ℕ) (by : Birth) (done : List Part) (tasks : List Task)
    → Fine types past xs next (Treating (name o) (begins by done) tasks) → Begins types past xs next o by done tasks
begins_of types past xs next o by done tasks (i, (is, b)) = subst (λ (j : ℕ). Begins types past xs next j by done tasks) (sym (same_name o i is)) b

-- What is treated by the same creation or assignment.
none_other :
    (shapes : List Shape) (b : BegunPart) (o : ℕ) (by : Birth) (done : List Part) (tasks : List Task) (w : Value) (treatment : Treatment) (left : List Task)
    → b.by ≡ by → b.treated.object.0 ≡ o → Differs (Treating (name o) (begins by done) tasks) (Treating w treatment left) → NoneInside shapes b w treatment left
none_other shapes b o by done tasks w (begins other d) left same_by same_o differs v_is t_is m lies =
    let one : other ≡ b.by = cc t_is in absurd (differs (sym (v_is ∙ ap name same_o)) (sym same_by ∙ sym one))
none_other shapes b o by done tasks w (ends cause) left same_by same_o differs v_is t_is m lies = absurd (cc t_is)

none_cleared :
    (m : ℕ) (v : Value) (by : Birth) (done : List Part) (tasks : List Task) (w : Value) (treatment : Treatment) (left : List Task) → adjusted_by by ≡ Some m
    → Differs (Treating v (begins by done) tasks) (Treating w treatment left) → NotCleared m w treatment left
none_cleared m v by done tasks w (begins other d) left own differs t_is = absurd (cc t_is)
none_cleared m v by done tasks w (ends cause) left own differs t_is = let one : cause ≡ Assigning m = cc t_is in differs m own one

module _ (types : List TypeDefinition) (past : List Event) (s : State) (o : ℕ) (x : Object) (at_o : slice_get s.heap o ≡ Some x) (stage : x.stage ≡ Existing) (of n number : ℕ) (by : Birth) (done : List Part) (tasks : List Task) (k : Control) (is : doings s.control ≡ Treating (name o) (begins by done) (performs of n ∷ tasks) ∷ doings k) (covers : Covers types (doings k)) (inv : Inv types past s.heap s.next (doings s.control)) (p : PartState) (at_n : slice_get x.cell.parts n ≡ Some p) where
  abbrev shapes : List Shape
  shapes = shapes_of types

  abbrev part : Part
  part = record { of = of; number = n }

  abbrev left : List Part
  left = parts_left (shapes_of types) tasks

  abbrev before : List Doing
  before = Treating (name o) (begins by done) (performs of n ∷ tasks) ∷ doings k

  abbrev later : List Doing
  later = Treating (name o) (begins by (part ∷ done)) tasks ∷ doings k

  inv_before : Inv types past s.heap s.next before
  inv_before = subst (Inv types past s.heap s.next) is inv

  begun : Begins types past s.heap s.next o by done (performs of n ∷ tasks)
  begun = begins_of types past s.heap s.next o by done (performs of n ∷ tasks) inv_before.fine.0

  -- It has no value before, and is not left behind.
  claimed : one_if p.alive + gains shapes o n before ≡ 1 + losses shapes o n before
  claimed = subst (λ (found : Option Object). Claimed found n (gains shapes o n before) (losses shapes o n before)) at_o (inv_before.claims o n) stage p at_n

  once : count n left ≡ 0
  once = (not_yet shapes PartsFirst begun.all done part tasks begun.treated).2

  none_before : one_if p.alive ≡ 0
  none_before =
      let c = claimed in
      let a = on_same o (count n (part ∷ left)) in
      let h = one_here part left in
      let le = covers o n in
      omega (arith, c, a, h, le)

  as_many : gains shapes o n (doings k) ≡ losses shapes o n (doings k)
  as_many =
      let c = claimed in
      let a = on_same o (count n (part ∷ left)) in
      let h = one_here part left in
      let le = covers o n in
      omega (arith, c, a, h, le)

  y : Object
  y = treated (born_part number) n x

  claims_later : Claims shapes (slice_set s.heap o y) later
  unfolding y
  claims_later =
      claims_part shapes s.heap (born_part number) o n x p before later at_o at_n
      (λ j m ne. let a = on_other o j (count m left) ne in let b = on_other o j (count m (part ∷ left)) ne in omega (arith, a, b))
      (λ m ne. let a = on_same o (count m left) in let b = on_same o (count m (part ∷ left)) in let c = other_here part left m ne in omega (arith, a, b, c))
      (let a = on_same o (count n left) in let b = once in let c = as_many in omega (arith, a, b, c))
      inv_before.claims

  module _ (after : State) (passed : Passed s after) (heap : after.heap ≡ bear s.heap (name o) n number) (same_next : after.next ≡ s.next) where
    e : Event
    e = Born (name o) n p.turn of number by

    changes : after.heap ≡ slice_set s.heap o y
    unfolding y
    changes = heap ∙ on_is (treated (born_part number) n) s.heap o x at_o

    recorded_on : Recorded (e ∷ past) o by (part ∷ done)
    unfolding e
    recorded_on q has = elim (cons_cases part q done has) [ inl same ↦ inl (ap (λ (u : Part). Some (begun_part o u by)) same) | inr more ↦ inr (begun.recorded q more) ]

    begun_on : Begins types (e ∷ past) after.heap after.next o by (part ∷ done) tasks
    begun_on =
        let b = begins_on types past e s.heap after.heap s.next after.next passed.keeps passed.grows o by done (performs of n ∷ tasks) begun in
        record {
          all = b.all;
          treated = performed (shapes_of types) PartsFirst b.all done part tasks b.treated;
          recorded = recorded_on;
          numbered = b.numbered;
          there = b.there;
          whole = b.whole;
          undoes = undoing_more (shapes_of types) b.all done of n tasks b.treated b.undoes;
        }

    inv_later : Inv types (e ∷ past) after.heap after.next later
    unfolding y
    inv_later = record {
      fine = ((o, (refl, begun_on)), fine_on types past e s.heap after.heap s.next after.next passed.keeps passed.grows (doings k) inv_before.fine.1);
      apart = apart_begun (name o) by done (part ∷ done) (performs of n ∷ tasks) tasks (doings k) inv_before.apart;
      claims = subst (λ (xs : Heap). Claims shapes xs later) (sym changes) claims_later;
      sane = subst (AllSane types) (sym changes) (sane_set types s.heap o x y at_o (sane_treated types (born_part number) n x stage (inv_before.sane o x at_o)) inv_before.sane);
      there = there_on s.heap after.heap before (subst (StaysThere s.heap) (sym changes) (stays_set s.heap o x y at_o (λ was. was))) (inv_before.there);
    }

    few : after.control ≡ treating (name o) (begins by (part ∷ done)) tasks k → Fewer later (doings after.control)
    few control = subst (λ (c : Control). Fewer later (doings c)) (sym control) (fewer_treating (name o) (begins by (part ∷ done)) tasks (doings k) k alike)

    is_left : IsLeft (name o) (begins by done) (performs of n ∷ tasks) (doings s.control)
    is_left = subst (IsLeft (name o) (begins by done) (performs of n ∷ tasks)) (sym is) (inl refl)

    told : Fewer later (doings after.control) → Told types past s e after
    unfolding e y
    told fewer =
        bears o n of p.turn number by done tasks refl
        (let a = ap (λ (found : Option Object). rank_by found n) at_o ∙ ap rank_of at_n in let b = none_before in omega (arith, a, b))
        (λ j m. ap (λ (xs : Heap). rank_at xs j m) changes ∙ risen s.heap (born_part number) o n x p at_o at_n (let b = none_before in omega (arith, b)) j m)
        (x, (at_o, sane_out types x stage (inv_before.sane o x at_o)))
        (get_within after.heap o y (ap (λ (xs : Heap). slice_get xs o) changes ∙ set_same s.heap o x y at_o))
        begun_on.numbered is_left
        (fewer_treatments (NoneInside shapes (begun_part o part by)) later (doings after.control) fewer (
          (λ v_is t_is m lies. inside_gone shapes begun.all done of n tasks begun.treated m lies),
          of_treatments (Differs (Treating (name o) (begins by done) (performs of n ∷ tasks))) (NoneInside shapes (begun_part o part by)) (doings k)
              (λ w treatment rest differs. none_other shapes (begun_part o part by) o by done (performs of n ∷ tasks) w treatment rest refl refl differs) inv_before.apart.0,
        ))
        (λ m own. fewer_treatments (NotCleared m) later (doings after.control) fewer (
          (λ never. absurd (cc never)),
          of_treatments (Differs (Treating (name o) (begins by done) (performs of n ∷ tasks))) (NotCleared m) (doings k)
              (λ w treatment rest differs. none_cleared m (name o) by done (performs of n ∷ tasks) w treatment rest own differs) inv_before.apart.0,
        ))
        (λ q lies inner. begun.recorded q (all_inside_called shapes begun.all done of n tasks begun.treated q lies inner))

    origins : Fewer later (doings after.control) → OfTreatments (Origin types s) (doings after.control)
    origins fewer =
        fewer_treatments (Origin types s) later (doings after.control) fewer (
          goes_on (begins by done) (performs of n ∷ tasks) is_left refl (λ m. omega arith),
          origins_kept types s (doings k) (λ w treatment rest there. subst (IsLeft w treatment rest) (sym is) (inr there)),
        )

    goes :
        after.mode ≡ Running → after.control ≡ treating (name o) (begins by (part ∷ done)) tasks k → Stack types s.heap code after.activations k
        → Goes types past s (Born (name o) n p.turn of number by) after
    unfolding e
    goes running control h = record {
      fits = record {
        stands = stands_on types s.heap after passed.keeps (begins_stand types s.heap after o by (part ∷ done) tasks k running control h);
        inv = inv_fewer types (e ∷ past) after.heap after.next later (doings after.control) (few control) inv_later;
      };
      told = told (few control);
      origins = origins (few control);
    }

  -- So it goes on.
  pub born_goes :
      (after : State) → after.heap ≡ bear s.heap (name o) n number → after.next ≡ s.next → after.mode ≡ Running
      → after.control ≡ treating (name o) (begins by (part ∷ done)) tasks k → Stack types s.heap code after.activations k
      → GoesOn types past s (Born (name o) n p.turn of number by) after
  born_goes after heap same_next running control h passed = goes after passed heap same_next running control h
