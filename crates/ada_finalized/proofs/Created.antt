-- What begins to be done to an object: a new one is initialized or adjusted, one is finalized and ended, and one is assigned to.

use Rattle.std.proofs.Common.{◌≡◌, ℕ, zero, suc, ◌+◌, ◌<◌, ◌≤◌, true, false, List, [], ◌∷◌, ◌++◌, length, Some, None, refl, sym, ap, ◌∙◌, inl, inr, subst, arith}
use Rattle.std.specs.List.{slice_get, slice_set}
use Rattle.std.proofs.lemmas.Bool.Decides.{eqb_tells}
use Rattle.std.proofs.lemmas.List.{length-map}
use Rattle.ada_program.specs.declared.program.TypeDefinition.{TypeDefinition}
use Rattle.ada_program.specs.Controlled.{number_reached, shapes_of, part_firsts}
use Rattle.ada_program.proofs.Firsts.{as_many_firsts}
use Rattle.ada_parts.specs.declared.tasks.Direction.TheVariants.{PartsFirst, WholeFirst}
use Rattle.ada_parts.specs.Shape.{Shape}
use Rattle.ada_parts.specs.Part.{Part}
use Rattle.ada_parts.specs.Task.{Task}
use Rattle.ada_parts.specs.Law.{parts_left}
use Rattle.ada_meaning.specs.declared.state.Value.{Value}
use Rattle.ada_meaning.specs.declared.state.Stage.TheVariants.{Existing}
use Rattle.ada_meaning.specs.declared.state.Mode.TheVariants.{Running}
use Rattle.ada_meaning.specs.declared.event.Birth.{Birth}
use Rattle.ada_meaning.specs.declared.event.Birth.TheVariants.{Adjustment}
use Rattle.ada_meaning.specs.declared.event.Cause.{Cause}
use Rattle.ada_meaning.specs.declared.event.Cause.TheVariants.{Assigning}
use Rattle.ada_meaning.specs.Event.{Quiet}
use Rattle.ada_meaning.specs.Frame.{Treatment, begins, ends}
use Rattle.ada_meaning.specs.Heap.{PartState, Cell}
use Rattle.ada_meaning.specs.Step.{all_tasks, record_tasks, parts_held, new_part, new_parts, treating}
use Rattle.ada_meaning.specs.Named.{Object, State, new_object, parted}
use Rattle.ada_meaning.specs.Run.{Event}
use Rattle.ada_meaning.specs.Finalization.{adjusted_by}
use Rattle.ada_finalized.proofs.Counts.{one_if, count}
use Rattle.ada_finalized.proofs.Treated.{Clearing, first, clearing_first, none_in, part_counts, get_within, record_parts, record_first}
use Rattle.ada_finalized.proofs.Ranks.{Heap, rank_of, rank_at, set_same, rank_kept, new_rank, new_dead, rank_more, more_at, more_others}
use Rattle.ada_finalized.proofs.Doings.{name, same_name, Doing, Treating, Ending, doings, number_of, Of, of_map, IsLeft, Fewer, fewer_treating, fewer_treatments, alike, Differs, Apart, on, on_same, on_other}
use Rattle.ada_finalized.proofs.Stacks.{Control, code, Stack}
use Rattle.ada_finalized.proofs.Claims.{Claims, claims_same, claims_more}
use Rattle.ada_finalized.proofs.Made.{Mild}
use Rattle.ada_finalized.proofs.Invariant.{all_of, Sane, exists, AllSane, Numbered, IsUnlisted, Caused, Begins, Fine, Exists, IsThere, Inv, inv_fewer, fine_on, StaysThere, there_on, Stands, stands_on, Origin, creates, adjusts, clears, parts, Passed, GoesOn, origins_kept}
use Rattle.ada_finalized.proofs.Going.{mild_still, begins_stand, sane_set, stays_set}

-- A new object: nothing is done to it before.
new_differs :
    (types : List TypeDefinition) (past : List Event) (xs : Heap) (next : ℕ) (by : Birth) (done : List Part) (tasks : List Task) → adjusted_by by ≡ None
    → (d : Doing) → Fine types past xs next d → Differs (Treating (name (length xs)) (begins by done) tasks) d
new_differs types past xs next by done tasks own (Treating w (begins other d) t) (i, (is, b)) = λ v_is by_is.
    let lt = b.there (ap adjusted_by (sym by_is) ∙ own) in
    let e = same_name (length xs) i (v_is ∙ is) in
    absurd (omega (arith, lt, e))
new_differs types past xs next by done tasks own (Treating w (ends cause) t) h = λ m is. let never : None ≡ Some m = sym own ∙ is in absurd (cc never)
new_differs types past xs next by done tasks own (Ending w) h = tt

stays_more : (xs : Heap) (x : Object) → StaysThere xs (xs ++ x ∷ [])
stays_more xs x o z is stage = (z, (kept xs o is, stage))
  where
    kept : (ys : Heap) (i : ℕ) → slice_get ys i ≡ Some z → slice_get (ys ++ x ∷ []) i ≡ Some z
    kept [] i e = absurd (cc e)
    kept (y ∷ ys) zero e = e
    kept (y ∷ ys) (suc i) e = kept ys i e

module _ (types : List TypeDefinition) (past : List Event) (s : State) (cell : Cell Value) (by : Birth) (new : cell.parts ≡ new_parts types cell.access) (own : adjusted_by by ≡ None) (inv : Inv types past s.heap s.next (doings s.control)) where
  abbrev shapes : List Shape
  shapes = shapes_of types

  abbrev xs : Heap
  xs = s.heap

  abbrev ds : List Doing
  ds = doings s.control

  abbrev due : List Task
  due = all_tasks types cell.access PartsFirst

  x : Object
  x = new_object cell

  abbrev later : List Doing
  later = Treating (name (length xs)) (begins by []) due ∷ ds

  parts_are : length cell.parts ≡ parts_held types cell.access
  parts_are =
      ap length new ∙ length-map (part_firsts types (number_reached types cell.access)) new_part ∙ as_many_firsts types (number_reached types cell.access)

  counted : (n : ℕ) → n < parts_held types cell.access → 1 ≤ count n (all_of types (new_object cell))
  counted n lt = part_counts shapes (number_reached types cell.access) n lt

  sane_new : AllSane types (xs ++ x ∷ [])
  unfolding x
  sane_new j z is = elim (eqb_tells j (length xs)) [ inl h ↦ here h.1 | inr h ↦ inv.sane j z (more_others xs x j z h.1 is) ]
    where
      here : j ≡ length xs → Sane types z
      here e =
          let both : Some x ≡ Some z = sym (more_at xs x) ∙ ap (slice_get (xs ++ x ∷ [])) (sym e) ∙ is in
          let one : x ≡ z = cc both in
          subst (Sane types) one (exists refl refl parts_are)

  claims_new : Claims shapes (xs ++ x ∷ []) later
  unfolding x
  claims_new =
      claims_more shapes xs x ds later
      (λ j n ne. let a = on_other (length xs) j (count n (parts_left shapes due)) ne in omega (arith, a))
      (λ n same stage p is.
      let dead = ap one_if (new_dead (part_firsts types (number_reached types cell.access)) n p (sym (ap (λ (ps : List PartState). slice_get ps n) new) ∙ is)) in
      let a = on_same (length xs) (count n (parts_left shapes due)) in
      let lt = get_within cell.parts n p is in
      let le = parts_are in
      let some = counted n (omega (arith, lt, le)) in
      let t = first types PartsFirst cell.access in
      let each = t.each n in
      let once = t.once n in
      omega (arith, same, dead, a, some, each, once))
      inv.claims

  whole_new : (y : Object) → slice_get (xs ++ x ∷ []) (length xs) ≡ Some y → (n : ℕ) → n < parts_held types y.cell.access → 1 ≤ count n (all_of types (new_object cell))
  unfolding x
  whole_new y is n lt =
      let both : Some x ≡ Some y = sym (more_at xs x) ∙ is in
      let one : x ≡ y = cc both in
      counted n (subst (λ (z : Object). n < parts_held types z.cell.access) (sym one) lt)

  module _ (e : Event) (after : State) (passed : Passed s after) (heap : after.heap ≡ xs ++ x ∷ []) where
    begun : Begins types (e ∷ past) after.heap after.next (length xs) by [] due
    unfolding x
    begun = record {
      all = all_of types (new_object cell);
      treated = first types PartsFirst cell.access;
      recorded = λ p has. none_in p has;
      numbered = λ n is. (let never : None ≡ Some n = sym own ∙ is in absurd (cc never));
      there = λ none. get_within after.heap (length xs) x (ap (λ (ys : Heap). slice_get ys (length xs)) heap ∙ more_at xs x);
      whole = λ none y is. whole_new y (sym (ap (λ (ys : Heap). slice_get ys (length xs)) heap) ∙ is);
      undoes = tt;
    }

    inv_new : Inv types (e ∷ past) after.heap after.next later
    unfolding x
    inv_new = record {
      fine = ((length xs, (refl, begun)), fine_on types past e xs after.heap s.next after.next passed.keeps passed.grows ds inv.fine);
      apart = (of_map (Fine types past xs s.next) (Differs (Treating (name (length xs)) (begins by []) due)) ds (new_differs types past xs s.next by [] due own) inv.fine, inv.apart);
      claims = subst (λ (ys : Heap). Claims shapes ys later) (sym heap) claims_new;
      sane = subst (AllSane types) (sym heap) sane_new;
      there = (
        (length xs, (refl, (x, (ap (λ (ys : Heap). slice_get ys (length xs)) heap ∙ more_at xs x, refl)))),
        there_on xs after.heap ds (subst (StaysThere xs) (sym heap) (stays_more xs x)) (inv.there),
      );
    }

  pub created_goes :
      (e : Event) (after : State) (k : Control) → Mild e → doings k ≡ doings s.control → after.mode ≡ Running → after.heap ≡ s.heap ++ new_object cell ∷ []
      → after.control ≡ treating (name (length s.heap)) (begins by []) (all_tasks types cell.access PartsFirst) k → Stack types s.heap code after.activations k
      → GoesOn types past s e after
  unfolding x
  created_goes e after k mild same running heap control h passed =
      let few : Fewer later (doings after.control) =
      subst (λ (c : Control). Fewer later (doings c)) (sym control)
      (fewer_treating (name (length xs)) (begins by []) due ds k (subst (Fewer ds) (sym same) alike)) in
      record {
        fits = record {
          stands = stands_on types xs after passed.keeps (begins_stand types xs after (length xs) by [] due k running control h);
          inv = inv_fewer types (e ∷ past) after.heap after.next later (doings after.control) few (inv_new e after passed heap);
        };
        told = mild_still types past s e after mild
            (λ j m. ap (λ (ys : Heap). rank_at ys j m) heap ∙ rank_more xs x (λ n. ap (λ (ps : List PartState). rank_of (slice_get ps n)) new ∙ new_rank (part_firsts types (number_reached types cell.access)) n) j m);
        origins = fewer_treatments (Origin types s) later (doings after.control) few (
          creates by refl own refl,
          origins_kept types s ds (λ w treatment rest there. there),
        );
      }

-- A cause that is new: by its number, or, at a leaving, since the object is in its collection.
pub data Fresh (cause : Cause) (x : Object) (s after : State) : Type 0 where
  by_number : number_of cause ≡ Some s.next → after.next ≡ s.next + 1 → Fresh cause x s after
  by_leaving : number_of cause ≡ None → x.listed ≡ true → Fresh cause x s after

fresh_differs :
    (types : List TypeDefinition) (past : List Event) (s after : State) (o : ℕ) (x : Object) (cause : Cause) (tasks : List Task) → slice_get s.heap o ≡ Some x
    → Fresh cause x s after → (d : Doing) → Fine types past s.heap s.next d → Differs (Treating (name o) (ends cause) tasks) d
fresh_differs types past s after o x cause tasks at_o fresh (Treating w (begins other d) t) h = tt
fresh_differs types past s after o x cause tasks at_o (by_number number more) (Treating w (ends other) t) (i, (is, c)) = λ v_is same.
    let lt = c.caused.numbered s.next (ap number_of (sym same) ∙ number) in absurd (omega (arith, lt))
fresh_differs types past s after o x cause tasks at_o (by_leaving none listed) (Treating w (ends other) t) (i, (is, c)) = λ v_is same.
    let u = c.caused.parted (ap number_of (sym same) ∙ none) in
    let both : Some x ≡ Some u.0 = sym at_o ∙ ap (slice_get s.heap) (same_name o i (v_is ∙ is)) ∙ u.1.0 in
    let one : x ≡ u.0 = cc both in
    let never : true ≡ false = sym listed ∙ ap (λ (z : Object). z.listed) one ∙ u.1.1 in
    absurd (cc never)
fresh_differs types past s after o x cause tasks at_o fresh (Ending w) h = tt

fresh_caused :
    (s after : State) (o : ℕ) (x : Object) (cause : Cause) → Fresh cause x s after → IsUnlisted after.heap o → Caused o cause after.heap after.next
fresh_caused s after o x cause (by_number number more) unlisted = record {
  numbered = λ n is. (let both : Some s.next ≡ Some n = sym number ∙ is in let one : s.next ≡ n = cc both in omega (arith, more, one));
  parted = λ none. unlisted;
}
fresh_caused s after o x cause (by_leaving none listed) unlisted =
    record { numbered = λ n is. (let never : None ≡ Some n = sym none ∙ is in absurd (cc never)); parted = λ own. unlisted }

fresh_origin :
    (types : List TypeDefinition) (s after : State) (o : ℕ) (x : Object) (cause : Cause) (tasks : List Task) → slice_get s.heap o ≡ Some x → Fresh cause x s after
    → Origin types s (name o) (ends cause) tasks
fresh_origin types s after o x cause tasks at_o (by_number number more) = clears cause refl number
fresh_origin types s after o x cause tasks at_o (by_leaving none listed) = parts cause o x refl none refl at_o listed

-- An object leaves its collection: it is to be finalized, and to cease to exist. Something that was done to it may be over.
pub parted_goes :
    (types : List TypeDefinition) (past : List Event) (s : State) (e : Event) (after : State) (o : ℕ) (x : Object) (cause : Cause) (tasks : List Task) (ds : List Doing)
    → Mild e → slice_get s.heap o ≡ Some x → Fresh cause x s after → Clearing (shapes_of types) tasks → AllSane types s.heap → Of (Fine types past s.heap s.next) ds → Apart ds
    → Of (IsThere s.heap) ds → x.stage ≡ Existing → Sane types (parted x)
    → Claims (shapes_of types) (slice_set s.heap o (parted x)) (Treating (name o) (ends cause) tasks ∷ Ending (name o) ∷ ds)
    → ((v : Value) (treatment : Treatment) (left : List Task) → IsLeft v treatment left ds → IsLeft v treatment left (doings s.control))
    → after.heap ≡ slice_set s.heap o (parted x) → Fewer (Treating (name o) (ends cause) tasks ∷ Ending (name o) ∷ ds) (doings after.control)
    → Stands types s.heap after → GoesOn types past s e after
parted_goes types past s e after o x cause tasks ds mild at_o fresh clearing sane fine apart there stage sane_now claims within changes few stands passed =
    let shapes = shapes_of types in
    let y = parted x in
    let later = Treating (name o) (ends cause) tasks ∷ Ending (name o) ∷ ds in
    let at_y : slice_get after.heap o ≡ Some y = ap (λ (ys : Heap). slice_get ys o) changes ∙ set_same s.heap o x y at_o in
    let unlisted : IsUnlisted after.heap o = (y, (at_y, refl)) in
    let inv_later : Inv types (e ∷ past) after.heap after.next later = record {
      fine = (
        (o, (refl, record { clearing = clearing; caused = fresh_caused s after o x cause fresh unlisted })),
        ((o, (refl, unlisted)), fine_on types past e s.heap after.heap s.next after.next passed.keeps passed.grows ds fine),
      );
      apart = ((tt, of_map (Fine types past s.heap s.next) (Differs (Treating (name o) (ends cause) tasks)) ds (fresh_differs types past s after o x cause tasks at_o fresh) fine), (over ds, apart));
      claims = subst (λ (ys : Heap). Claims shapes ys later) (sym changes) claims;
      sane = subst (AllSane types) (sym changes) (sane_set types s.heap o x y at_o sane_now sane);
      there = (
        (o, (refl, (y, (at_y, stage)))),
        ((o, (refl, (y, (at_y, stage)))), there_on s.heap after.heap ds (subst (StaysThere s.heap) (sym changes) (stays_set s.heap o x y at_o (λ was. was))) there),
      );
    } in
    record {
      fits = record { stands = stands_on types s.heap after passed.keeps stands; inv = inv_fewer types (e ∷ past) after.heap after.next later (doings after.control) few inv_later };
      told = mild_still types past s e after mild (λ j m. ap (λ (ys : Heap). rank_at ys j m) changes ∙ rank_kept s.heap o x y at_o refl j m);
      origins = fewer_treatments (Origin types s) later (doings after.control) few
          (fresh_origin types s after o x cause tasks at_o fresh, (tt, origins_kept types s ds within));
    }
  where
    over : (es : List Doing) → Of (Differs (Ending (name o))) es
    over [] = tt
    over (d ∷ es) = (tt, over es)

-- A record is assigned to: its number is new.
number_differs :
    (types : List TypeDefinition) (past : List Event) (xs : Heap) (next : ℕ) (v : Value) (tasks : List Task) (d : Doing) → Fine types past xs next d
    → Differs (Treating v (ends (Assigning next)) tasks) d
number_differs types past xs next v tasks (Treating w (begins other b) t) h = tt
number_differs types past xs next v tasks (Treating w (ends other) t) (i, (is, c)) = λ v_is same.
    let lt = c.caused.numbered next (ap number_of (sym same)) in absurd (omega (arith, lt))
number_differs types past xs next v tasks (Ending w) h = tt

adjustment_differs :
    (types : List TypeDefinition) (past : List Event) (xs : Heap) (next : ℕ) (v : Value) (done : List Part) (tasks : List Task) (d : Doing)
    → Fine types past xs next d → Differs (Treating v (begins (Adjustment next) done) tasks) d
adjustment_differs types past xs next v done tasks (Treating w (begins other b) t) (i, (is, c)) = λ v_is same.
    let lt = c.numbered next (ap adjusted_by (sym same)) in absurd (omega (arith, lt))
adjustment_differs types past xs next v done tasks (Treating w (ends cause) t) (i, (is, c)) = λ m own same.
    let lt = c.caused.numbered next (ap number_of same ∙ sym own) in absurd (omega (arith, lt))
adjustment_differs types past xs next v done tasks (Ending w) h = tt

pub assigning_goes :
    (types : List TypeDefinition) (past : List Event) (s after : State) (o t from : ℕ) → Inv types past s.heap s.next (doings s.control)
    → Exists s.heap (name o) → after.heap ≡ s.heap → after.next ≡ s.next + 1
    → Fewer (Treating (name o) (ends (Assigning s.next)) (record_tasks types t WholeFirst from) ∷ Treating (name o) (begins (Adjustment s.next) []) (record_tasks types t PartsFirst from) ∷ doings s.control) (doings after.control)
    → Stands types s.heap after → GoesOn types past s Quiet after
assigning_goes types past s after o t from inv there heap more few stands passed =
    let shapes = shapes_of types in
    let n = s.next in
    let cleared = record_tasks types t WholeFirst from in
    let copied = record_tasks types t PartsFirst from in
    let ds = doings s.control in
    let later = Treating (name o) (ends (Assigning n)) cleared ∷ Treating (name o) (begins (Adjustment n) []) copied ∷ ds in
    let all = record_parts types t from in
    let a = record_first types WholeFirst t from in
    let b = record_first types PartsFirst t from in
    let used : Numbered (Some n) after.next = λ m is. (let one : n ≡ m = cc is in omega (arith, more, one)) in
    let inv_later : Inv types (Quiet ∷ past) after.heap after.next later = record {
      fine = (
        (o, (refl, record { clearing = clearing_first shapes all cleared a; caused = record { numbered = used; parted = λ none. absurd (cc none) } })),
        (
          (
            o,
            (
              refl,
              record {
                all = all;
                treated = b;
                recorded = λ p has. none_in p has;
                numbered = used;
                there = λ none. absurd (cc none);
                whole = λ none. absurd (cc none);
                undoes = tt;
              },
            ),
          ),
          fine_on types past Quiet s.heap after.heap s.next after.next passed.keeps passed.grows ds inv.fine,
        ),
      );
      apart = (
        (tt, of_map (Fine types past s.heap n) (Differs (Treating (name o) (ends (Assigning n)) cleared)) ds (number_differs types past s.heap n (name o) cleared) inv.fine),
        (of_map (Fine types past s.heap n) (Differs (Treating (name o) (begins (Adjustment n) []) copied)) ds (adjustment_differs types past s.heap n (name o) [] copied) inv.fine, inv.apart),
      );
      claims = subst (λ (ys : Heap). Claims shapes ys later) (sym heap)
          (claims_same shapes s.heap ds later
          (λ j m.
          let x = a.each m in
          let y = b.each m in
          let alike : count m (parts_left shapes copied) ≡ count m (parts_left shapes cleared) = omega (arith, x, y) in
          let same = ap (on (name o) j) alike in
          omega (arith, same))
          inv.claims);
      sane = subst (AllSane types) (sym heap) inv.sane;
      there = subst (λ (ys : Heap). Of (IsThere ys) later) (sym heap) (there, (there, inv.there));
    } in
    record {
      fits = record { stands = stands_on types s.heap after passed.keeps stands; inv = inv_fewer types (Quiet ∷ past) after.heap after.next later (doings after.control) few inv_later };
      told = mild_still types past s Quiet after tt (λ j m. ap (λ (ys : Heap). rank_at ys j m) heap);
      origins = fewer_treatments (Origin types s) later (doings after.control) few
          (clears (Assigning n) refl refl, (adjusts refl, origins_kept types s ds (λ w treatment rest is. is)));
    }
