-- Steps that finalize and begin nothing: a component is picked; an object ceases to exist; its words go back; an initialization is undone.

use Rattle.std.proofs.Common.{◌≡◌, ℕ, zero, suc, ◌+◌, ◌<◌, false, List, [], ◌∷◌, length, Option, Some, None, refl, sym, ap, ◌∙◌, inl, inr, subst, arith}
use Rattle.std.specs.List.{slice_get, slice_set}
use Rattle.ada_program.specs.declared.program.TypeDefinition.{TypeDefinition}
use Rattle.ada_program.specs.Controlled.{shapes_of}
use Rattle.ada_parts.specs.Shape.{Shape}
use Rattle.ada_parts.specs.Part.{Part}
use Rattle.ada_parts.specs.Task.{Task}
use Rattle.ada_parts.specs.Law.{parts_left}
use Rattle.ada_meaning.specs.declared.state.Id.{Id}
use Rattle.ada_meaning.specs.declared.state.Value.{Value}
use Rattle.ada_meaning.specs.declared.state.Stage.TheVariants.{Existing, Gone}
use Rattle.ada_meaning.specs.declared.state.Mode.TheVariants.{Running}
use Rattle.ada_meaning.specs.declared.event.Birth.TheVariants.{Creation}
use Rattle.ada_meaning.specs.declared.event.Cause.{Cause}
use Rattle.ada_meaning.specs.declared.event.Cause.TheVariants.{Undoing}
use Rattle.ada_meaning.specs.Event.{Back, Quiet}
use Rattle.ada_meaning.specs.Frame.{Treatment, begins, ends}
use Rattle.ada_meaning.specs.Frame as frame
use Rattle.ada_meaning.specs.Heap.{PartState}
use Rattle.ada_meaning.specs.Step.{parts_held}
use Rattle.ada_meaning.specs.Named.{Object, State, on_object, parted, finished, returned}
use Rattle.ada_meaning.specs.Run.{Event}
use Rattle.ada_meaning.specs.Finalization.{assigned_by}
use Rattle.ada_finalized.proofs.Counts.{count}
use Rattle.ada_finalized.proofs.Treated.{undoing, undoing_left, undoing_cleared, get_within}
use Rattle.ada_finalized.proofs.Ranks.{Heap, rank_at, set_same, on_is, rank_kept}
use Rattle.ada_finalized.proofs.Doings.{name, Doing, Treating, Ending, doings, Of, Other, OfTreatments, IsLeft, Fewer, fewer_treatments, Apart, apart_begun, apart_ended, on, on_same, on_other, gain, gains, loss, losses}
use Rattle.ada_finalized.proofs.Stacks.{Control, code, Stack, IsPart, IsSpare, stack_on, Covers}
use Rattle.ada_finalized.proofs.Claims.{Claimed, Claims, claims_same, claims_set, claims_flags}
use Rattle.ada_finalized.proofs.Invariant.{Sane, exists, is_gone, AllSane, IsOut, Fine, IsThere, Inv, inv_fewer, fine_on, StaysThere, there_on, there_others, Stands, stands_on, leaving, Origin, goes_on, still, GoesOn, origins_kept}
use Rattle.ada_finalized.proofs.Going.{mild_still, dead_of, sane_set, stays_set}
use Rattle.ada_finalized.proofs.Begun.{begins_of}
use Rattle.ada_finalized.proofs.Created.{by_number, parted_goes}

-- A component is picked: as much is left.
same_gain : (shapes : List Shape) (j n : ℕ) (v : Value) (treatment : Treatment) (tasks left : List Task) → count n (parts_left shapes left) ≡ count n (parts_left shapes tasks) → gain shapes j n (Treating v treatment left) ≡ gain shapes j n (Treating v treatment tasks)
same_gain shapes j n v (begins by done) tasks left e = ap (on v j) e
same_gain shapes j n v (ends cause) tasks left e = refl

same_loss : (shapes : List Shape) (j n : ℕ) (v : Value) (treatment : Treatment) (tasks left : List Task) → count n (parts_left shapes left) ≡ count n (parts_left shapes tasks) → loss shapes j n (Treating v treatment left) ≡ loss shapes j n (Treating v treatment tasks)
same_loss shapes j n v (begins by done) tasks left e = refl
same_loss shapes j n v (ends cause) tasks left e = ap (on v j) e

still_apart : (v : Value) (treatment : Treatment) (tasks left : List Task) (ds : List Doing) → Apart (Treating v treatment tasks ∷ ds) → Apart (Treating v treatment left ∷ ds)
still_apart v (begins by done) tasks left ds h = apart_begun v by done done tasks left ds h
still_apart v (ends cause) tasks left ds h = apart_ended v cause tasks left ds h

pub waits_goes :
    (types : List TypeDefinition) (past : List Event) (s after : State) (v : Value) (treatment : Treatment) (tasks left : List Task) (ds : List Doing)
    → doings s.control ≡ Treating v treatment tasks ∷ ds → Inv types past s.heap s.next (doings s.control)
    → ((n : ℕ) → count n (parts_left (shapes_of types) left) ≡ count n (parts_left (shapes_of types) tasks))
    → Fine types (Quiet ∷ past) s.heap s.next (Treating v treatment left) → after.heap ≡ s.heap → after.next ≡ s.next
    → Fewer (Treating v treatment left ∷ ds) (doings after.control) → Stands types s.heap after → GoesOn types past s Quiet after
waits_goes types past s after v treatment tasks left ds is inv same fine heap same_next few stands passed =
    let shapes = shapes_of types in
    let before = Treating v treatment tasks ∷ ds in
    let later = Treating v treatment left ∷ ds in
    let inv_before : Inv types past s.heap s.next before = subst (Inv types past s.heap s.next) is inv in
    let is_left : IsLeft v treatment tasks (doings s.control) = subst (IsLeft v treatment tasks) (sym is) (inl refl) in
    let fine_now : Fine types (Quiet ∷ past) after.heap after.next (Treating v treatment left) =
    subst (λ (m : ℕ). Fine types (Quiet ∷ past) after.heap m (Treating v treatment left)) (sym same_next)
    (subst (λ (ys : Heap). Fine types (Quiet ∷ past) ys s.next (Treating v treatment left)) (sym heap) fine) in
    let inv_later : Inv types (Quiet ∷ past) after.heap after.next later = record {
      fine = (fine_now, fine_on types past Quiet s.heap after.heap s.next after.next passed.keeps passed.grows ds inv_before.fine.1);
      apart = still_apart v treatment tasks left ds inv_before.apart;
      claims = subst (λ (ys : Heap). Claims shapes ys later) (sym heap)
          (claims_same shapes s.heap before later
          (λ j n. let a = same_gain shapes j n v treatment tasks left (same n) in let b = same_loss shapes j n v treatment tasks left (same n) in omega (arith, a, b))
          inv_before.claims);
      sane = subst (AllSane types) (sym heap) inv_before.sane;
      there = subst (λ (ys : Heap). Of (IsThere ys) later) (sym heap) (inv_before.there);
    } in
    record {
      fits = record { stands = stands_on types s.heap after passed.keeps stands; inv = inv_fewer types (Quiet ∷ past) after.heap after.next later (doings after.control) few inv_later };
      told = mild_still types past s Quiet after tt (λ j m. ap (λ (ys : Heap). rank_at ys j m) heap);
      origins = fewer_treatments (Origin types s) later (doings after.control) few (
        goes_on treatment tasks is_left refl (λ n. let e = same n in omega (arith, e)),
        origins_kept types s ds (λ w u rest there. subst (IsLeft w u rest) (sym is) (inr there)),
      );
    }

-- No part of an object that is to cease to exist next is spared behind that.
part_at : (ps : List PartState) (n : ℕ) → n < length ps → (p : PartState) × (slice_get ps n ≡ Some p)
part_at [] n lt = absurd (omega (arith, lt))
part_at (p ∷ ps) zero lt = (p, refl)
part_at (p ∷ ps) (suc n) lt = part_at ps n (omega (arith, lt))

pub parts_of_sane : (types : List TypeDefinition) (x : Object) → x.stage ≡ Existing → Sane types x → length x.cell.parts ≡ parts_held types x.cell.access
parts_of_sane types x stage (exists same out parts) = parts
parts_of_sane types x stage (is_gone gone listed dead) = let never : Existing ≡ Gone = sym stage ∙ gone in absurd (cc never)

none_spared :
    (types : List TypeDefinition) (xs : Heap) (o : ℕ) (x : Object) (ds : List Doing) → slice_get xs o ≡ Some x → x.stage ≡ Existing → AllSane types xs
    → Claims (shapes_of types) xs (Ending (name o) ∷ ds) → (n : ℕ) → IsPart types xs o n → IsSpare types o n ds → ⊥
none_spared types xs o x ds at_o stage sane claims n (y, (is, lt)) spare =
    let shapes = shapes_of types in
    let before = Ending (name o) ∷ ds in
    let both : Some y ≡ Some x = sym is ∙ at_o in
    let one : y ≡ x = cc both in
    let le = parts_of_sane types x stage (sane o x at_o) in
    let within = subst (λ (z : Object). n < parts_held types z.cell.access) one lt in
    let p = part_at x.cell.parts n (omega (arith, within, le)) in
    let c = subst (λ (found : Option Object). Claimed found n (gains shapes o n before) (losses shapes o n before)) at_o (claims o n) stage p.0 p.1 in
    let a = on_same o 1 in
    omega (arith, a, c, spare)

-- An object ceases to exist.
pub finished_goes :
    (types : List TypeDefinition) (past : List Event) (s after : State) (o : ℕ) (x : Object) (cause : Cause) (pool : Option ℕ) (k : Control)
    → assigned_by (Some cause) ≡ None → slice_get s.heap o ≡ Some x → x.stage ≡ Existing → doings s.control ≡ Ending (name o) ∷ doings k → Covers types (doings k)
    → (((n : ℕ) → IsPart types s.heap o n → IsSpare types o n (doings k) → ⊥) → Of (Other o) (doings k))
    → Inv types past s.heap s.next (doings s.control) → after.heap ≡ on_object finished s.heap (name o)
    → after.mode ≡ Running → after.control ≡ frame.GivesBack (name o) cause pool ∷ k → Stack types s.heap code after.activations k → GoesOn types past s Quiet after
finished_goes types past s after o x cause pool k own at_o stage is covers untreated inv heap running control h passed =
    let shapes = shapes_of types in
    let ds = doings k in
    let before = Ending (name o) ∷ ds in
    let y = finished x in
    let inv_before : Inv types past s.heap s.next before = subst (Inv types past s.heap s.next) is inv in
    let changes : after.heap ≡ slice_set s.heap o y = heap ∙ on_is finished s.heap o x at_o in
    let at_y : slice_get after.heap o ≡ Some y = ap (λ (ys : Heap). slice_get ys o) changes ∙ set_same s.heap o x y at_o in
    let dead : (n : ℕ) (p : PartState) → slice_get x.cell.parts n ≡ Some p → p.alive ≡ false = λ n p at_n.
    dead_of p.alive
    (let c = subst (λ (found : Option Object). Claimed found n (gains shapes o n before) (losses shapes o n before)) at_o (inv_before.claims o n) stage p at_n in
    let a = on_same o 1 in
    let le = covers o n in
    omega (arith, c, a, le)) in
    let inv_later : Inv types (Quiet ∷ past) after.heap after.next ds = record {
      fine = fine_on types past Quiet s.heap after.heap s.next after.next passed.keeps passed.grows ds inv_before.fine.1;
      apart = inv_before.apart.1;
      claims = subst (λ (ys : Heap). Claims shapes ys ds) (sym changes)
          (claims_set shapes s.heap o x y before ds at_o (λ j n ne. let a = on_other o j 1 ne in omega (arith, a)) inv_before.claims
          (λ n exist. let never : Gone ≡ Existing = exist in absurd (cc never)));
      sane = subst (AllSane types) (sym changes) (sane_set types s.heap o x y at_o (is_gone refl refl dead) inv_before.sane);
      there = subst (λ (ys : Heap). Of (IsThere ys) ds) (sym changes) (there_others s.heap o y ds (untreated (none_spared types s.heap o x ds at_o stage inv_before.sane inv_before.claims)) inv_before.there.1);
    } in
    let same : doings after.control ≡ ds = ap doings control in
    record {
      fits = record {
        stands = leaving o y cause pool k running control own (stack_on types s.heap after.heap passed.keeps h) at_y refl;
        inv = subst (Inv types (Quiet ∷ past) after.heap after.next) (sym same) inv_later;
      };
      told = mild_still types past s Quiet after tt (λ j m. ap (λ (ys : Heap). rank_at ys j m) changes ∙ rank_kept s.heap o x y at_o refl j m);
      origins = subst (OfTreatments (Origin types s)) (sym same)
          (origins_kept types s ds (λ w u rest there. subst (IsLeft w u rest) (sym is) (inr there)));
    }

-- Its words go back.
gone_sane : (types : List TypeDefinition) (x : Object) → x.stage ≡ Gone → Sane types x → Sane types (returned x)
gone_sane types x gone (exists stage out parts) = let never : Existing ≡ Gone = sym stage ∙ gone in absurd (cc never)
gone_sane types x gone (is_gone stage listed dead) = is_gone stage listed dead

name_of : Option Id → ℕ
name_of None = 0
name_of (Some i) = i.0

pub returned_goes :
    (types : List TypeDefinition) (past : List Event) (s after : State) (o : ℕ) (x : Object) (access number : ℕ) (pool subpool : Option ℕ) (cause : Cause)
    → assigned_by (Some cause) ≡ None → slice_get s.heap o ≡ Some x → x.stage ≡ Gone → Inv types past s.heap s.next (doings s.control)
    → after.heap ≡ on_object returned s.heap (name o) → doings after.control ≡ doings s.control → Stands types s.heap after
    → GoesOn types past s (Back (name o) access number pool subpool cause) after
unfolding name_of
returned_goes types past s after o x access number pool subpool cause own at_o gone inv heap same stands passed =
    let shapes = shapes_of types in
    let ds = doings s.control in
    let e : Event = Back (name o) access number pool subpool cause in
    let y = returned x in
    let changes : after.heap ≡ slice_set s.heap o y = heap ∙ on_is returned s.heap o x at_o in
    let at_y : slice_get after.heap o ≡ Some y = ap (λ (ys : Heap). slice_get ys o) changes ∙ set_same s.heap o x y at_o in
    let inv_later : Inv types (e ∷ past) after.heap after.next ds = record {
      fine = fine_on types past e s.heap after.heap s.next after.next passed.keeps passed.grows ds inv.fine;
      apart = inv.apart;
      claims = subst (λ (ys : Heap). Claims shapes ys ds) (sym changes)
          (claims_flags shapes s.heap o x y ds ds at_o (λ j n ne. omega arith) inv.claims refl (λ was. was) (λ n p at_n. omega arith));
      sane = subst (AllSane types) (sym changes) (sane_set types s.heap o x y at_o (gone_sane types x gone (inv.sane o x at_o)) inv.sane);
      there = there_on s.heap after.heap ds (subst (StaysThere s.heap) (sym changes) (stays_set s.heap o x y at_o (λ was. was))) (inv.there);
    } in
    record {
      fits = record { stands = stands_on types s.heap after passed.keeps stands; inv = subst (Inv types (e ∷ past) after.heap after.next) (sym same) inv_later };
      told = still tt own (λ j m. ap (λ (ys : Heap). rank_at ys j m) changes ∙ rank_kept s.heap o x y at_o refl j m)
          (λ other back. let one : o ≡ other.0 = ap name_of back in subst (λ (j : ℕ). IsOut after.heap j false) one (y, (at_y, refl)));
      origins = origins_kept types s (doings after.control) (λ v treatment tasks. subst (IsLeft v treatment tasks) same);
    }

-- An initialization is undone: what has begun is to be finalized, and the object is to cease to exist.
exists_parted : (types : List TypeDefinition) (x : Object) → x.stage ≡ Existing → Sane types x → Sane types (parted x)
exists_parted types x stage (exists same out parts) = exists same out parts
exists_parted types x stage (is_gone gone listed dead) = is_gone gone refl dead

pub undone_goes :
    (types : List TypeDefinition) (past : List Event) (s after : State) (o : ℕ) (x : Object) (done : List Part) (tasks : List Task) (ds : List Doing)
    → slice_get s.heap o ≡ Some x → x.stage ≡ Existing → doings s.control ≡ Treating (name o) (begins Creation done) tasks ∷ ds
    → Inv types past s.heap s.next (doings s.control) → after.heap ≡ on_object parted s.heap (name o) → after.next ≡ s.next + 1
    → Fewer (Treating (name o) (ends (Undoing s.next)) (undoing done) ∷ Ending (name o) ∷ ds) (doings after.control)
    → Stands types s.heap after → GoesOn types past s Quiet after
undone_goes types past s after o x done tasks ds at_o stage is inv heap more few stands =
    let shapes = shapes_of types in
    let before = Treating (name o) (begins Creation done) tasks ∷ ds in
    let later = Treating (name o) (ends (Undoing s.next)) (undoing done) ∷ Ending (name o) ∷ ds in
    let y = parted x in
    let inv_before : Inv types past s.heap s.next before = subst (Inv types past s.heap s.next) is inv in
    let b = begins_of types past s.heap s.next o Creation done tasks inv_before.fine.0 in
    let changes : after.heap ≡ slice_set s.heap o y = heap ∙ on_is parted s.heap o x at_o in
    parted_goes types past s Quiet after o x (Undoing s.next) (undoing done) ds tt at_o (by_number refl more)
    (undoing_cleared shapes b.all done tasks b.treated b.undoes) inv_before.sane inv_before.fine.1 inv_before.apart.1 inv_before.there.1 stage
    (exists_parted types x stage (inv_before.sane o x at_o))
    (claims_flags shapes s.heap o x y before later at_o
    (λ j n ne.
    let a = on_other o j (count n (parts_left shapes tasks)) ne in
    let c = on_other o j 1 ne in
    let d = on_other o j (count n (parts_left shapes (undoing done))) ne in
    omega (arith, a, c, d))
    inv_before.claims refl (λ was. was)
    (λ n p at_n.
    let a = on_same o (count n (parts_left shapes tasks)) in
    let c = on_same o 1 in
    let d = on_same o (count n (parts_left shapes (undoing done))) in
    let l = ap (count n) (undoing_left shapes done) in
    let lt = get_within x.cell.parts n p at_n in
    let le = parts_of_sane types x stage (inv_before.sane o x at_o) in
    let some = b.whole refl x at_o n (omega (arith, lt, le)) in
    let each = b.treated.each n in
    let once = b.treated.once n in
    omega (arith, a, c, d, l, some, each, once)))
    (λ w u rest there. subst (IsLeft w u rest) (sym is) (inr there)) changes few stands
