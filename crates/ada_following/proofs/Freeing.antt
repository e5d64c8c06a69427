-- A Free is followed, and so is each step of code.

use Rattle.std.proofs.Common.{◌≡◌, ◌≢◌, ℕ, zero, suc, ◌+◌, ◌<◌, ◌≤◌, Bool, true, false, cond, List, [], ◌∷◌, Option, Some, None, refl, sym, ap, ◌∙◌, inl, inr, subst, arith}
use Rattle.std.specs.Prelude.{◌==◌, ◌&&◌, if◌then◌else◌, is_some}
use Rattle.std.specs.List.{slice_get}
use Rattle.std.proofs.lemmas.Bool.Decides.{eqb_tells}
use Rattle.ada_program.specs.declared.program.TypeDefinition.{TypeDefinition}
use Rattle.ada_program.specs.Controlled.{number_reached, shapes_of}
use Rattle.ada_parts.specs.declared.tasks.Direction.TheVariants.{WholeFirst}
use Rattle.ada_meaning.specs.declared.state.Id.{Id}
use Rattle.ada_meaning.specs.declared.state.Value.{Value}
use Rattle.ada_meaning.specs.declared.state.Value.TheVariants.{Null, Names, Scalar, Part}
use Rattle.ada_meaning.specs.declared.state.Mode.TheVariants.{Running}
use Rattle.ada_meaning.specs.declared.event.Cause.TheVariants.{Freeing}
use Rattle.ada_meaning.specs.Frame.{ends}
use Rattle.ada_meaning.specs.Frame as frame
use Rattle.ada_meaning.specs.Heap.{PartState, Cell, on_gone, finds}
use Rattle.ada_meaning.specs.State.{Activation, Item, Master}
use Rattle.ada_meaning.specs.Step.{older, same_pool, all_tasks, treating, stored_from}
use Rattle.ada_meaning.specs.Named.{Object, State, named, all_alive, standing, standing_by, on_object, parted}
use Rattle.ada_meaning.specs.Run.{Event}
use Rattle.ada_meaning.proofs.Treatments.{are_table}
use Rattle.ada_storage.specs.State.{bit, same, in_list, in_items, in_members, in_forest, in_forests, placed, listed, assigned}
use Rattle.ada_storage.specs.State as storage
use Rattle.ada_storage.specs.Step.{at, at_free, frame as ending_frame}
use Rattle.ada_storage.specs.Following.{Goes}
use Rattle.ada_storage.proofs.Facts.{same_self, same_other, same_is}
use Rattle.ada_storage.proofs.Invariant.{Alive, Objects, Fits}
use Rattle.ada_following.specs.Forests.{forest_for}
use Rattle.ada_following.specs.Reading.{event_seen, listed_in, is_out, part_of, is_alive, forest_seen}
use Rattle.ada_following.proofs.Heaps.{Heap, IsFine, pool_of, alike_same, alike_stored, unlists_parted}
use Rattle.ada_following.proofs.Places.{Listing, Items, no_items, passed, collected, single}
use Rattle.ada_following.proofs.Sound.{IsSingle, ItemsFit, MastersFit}
use Rattle.ada_following.proofs.Frames.{Control, Over, Static, static, listing, but, Treating, frees, initializes, undoes, assigns, adjusts, before, placed_in, assigned_in, alive_behind, listing_behind, placed_before, listed_before, assigned_before, fits_behind, giving_up, Waits, made, adjusted, undone, assigned_to, failing, Reads, nothing, code, calls, enters, operates, treats_behind, leaves_behind}
use Rattle.ada_following.proofs.Frames as frames
use Rattle.ada_following.proofs.Readings.{after_more, over_reads}
use Rattle.ada_following.proofs.PartsLeft.{in_beside}
use Rattle.ada_following.proofs.Stands.{at_path, freed, finding}
use Rattle.ada_following.proofs.Deeds.{Work, stays, fills, owns, makes, creates, gives_up, seeks}
use Rattle.ada_following.proofs.Deeds as deeds
use Rattle.ada_following.proofs.Goings.{Holds, with_freed, freed_one}
use Rattle.ada_following.proofs.Creating.{starts_ending}
use Rattle.ada_following.proofs.Passing.{reads_parted, facts_unlisted}
use Rattle.ada_following.proofs.Coding.{reads_callers, read_follows, same_follows, owns_follows, makes_follows, creates_follows, enters_follows}
use Rattle.ada_following.proofs.Follows.{Facts, Follows, lands_later}

-- What is dead.
dead_by : (b : Bool) → bit b ≡ 0 → b ≡ false
dead_by true e = absurd (omega (arith, e))
dead_by false e = refl

-- The object of a treatment.
abbrev object_of : Treating → ℕ
object_of (frees n o fs) = o
object_of (initializes o joins js done) = o
object_of (undoes n o done) = o
object_of (assigns n o f fs) = o
object_of (adjusts o f js done) = o

-- A treatment that waits has a part without a value.
record HasDead (S : Static) (A : Alive) (o : ℕ) : Type 0 where
  part : ℕ
  has : S.holds o part ≡ true
  dead : A o part ≡ false

waits_dead :
    {types : List TypeDefinition} {S : Static} {L : Listing} {A : Alive} {acts : List (Activation Value)} {ms : List Master} {k l : Control} {t : Treating} (T : Objects) (c : storage.Control) → Fits A T (before t c)
    → Waits types S L A acts ms k l t → HasDead S A (object_of t)
waits_dead {A = A} T c fits (made x by done of part tasks jobs joins created has b is j) = record {
  part = part;
  has = has;
  dead = dead_by (A x.0 part) (let a = fits.0 part in let b = fits.1 part in let d = fits.2.0 part in let self = same_self part in omega (arith, a, b, d, self));
}
waits_dead {A = A} T c fits (adjusted x n done of part tasks f jobs has b) =
    let b = fits.1 part in
    let self = same_self part in
    let d = fits.2 part in
    let a = fits.0 part (omega (arith, b, self)) in
    record { part = part; has = has; dead = dead_by (A x.0 part) (omega (arith, a, b, d, self)) }
waits_dead {A = A} T c fits (frames.freed x n pool tasks left dead has none e is) = record { part = dead; has = has; dead = dead_by (A x.0 dead) (fits.0.0 dead ∙ none) }
waits_dead {A = A} T c fits (undone x n pool e done dead has none is) = record { part = dead; has = has; dead = dead_by (A x.0 dead) (fits.0.0 dead ∙ none) }
waits_dead {A = A} T c fits (assigned_to x p us base t first count n last lasts tasks left dead has some none newest rec e is) = record { part = dead; has = has; dead = dead_by (A x.0 dead) (fits.0.0 dead some ∙ none) }
waits_dead {A = A} T c fits (failing x p us base t first count n last lasts tasks parts left dead has some none newest rec lacks is) =
    record { part = dead; has = has; dead = dead_by (A x.0 dead) (let a = fits.0.0 dead some in let b = in_beside dead left in omega (arith, a, b, none)) }

placed_by : (o : ℕ) (t : Treating) → same o (object_of t) ≡ 0 → placed_in o t ≡ 0
placed_by o (frees n x fs) z = z
placed_by o (initializes x joins js done) z = z
placed_by o (undoes n x done) z = z
placed_by o (assigns n x f fs) z = refl
placed_by o (adjusts x f js done) z = refl

assigned_by : (o : ℕ) (t : Treating) → same o (object_of t) ≡ 0 → assigned_in o t ≡ 0
assigned_by o (frees n x fs) z = refl
assigned_by o (initializes x joins js done) z = refl
assigned_by o (undoes n x done) z = refl
assigned_by o (assigns n x f fs) z = z
assigned_by o (adjusts x f js done) z = z

alive_more : (A : Alive) (t : Treating) (x q : ℕ) → A x q ≡ true → alive_behind A t x q ≡ true
alive_more A (frees n o fs) x q e = e
alive_more A (initializes o joins js done) x q e = e
alive_more A (undoes n o done) x q e = e
alive_more A (assigns n o f fs) x q e = after_more (x == o) (in_forest q f) (A x q) e
alive_more A (adjusts o f js done) x q e = after_more (x == o) (in_forest q f) (A x q) e

but_less : (b : Bool) (n : ℕ) → cond b 0 n ≤ n
but_less true n = omega arith
but_less false n = omega arith

listing_less : (L : Listing) (t : Treating) (i x : ℕ) → listing_behind L t i x ≤ L i x
listing_less L (frees n o fs) i x = omega arith
listing_less L (initializes o joins js done) i x = but_less (x == o) (L i x)
listing_less L (undoes n o done) i x = omega arith
listing_less L (assigns n o f fs) i x = omega arith
listing_less L (adjusts o f js done) i x = omega arith

-- An object from a pool, all of whose parts have values, has no place but in its collection.
module _ (types : List TypeDefinition) (S : Static) (T : Objects) (h : Heap) (o pool : ℕ) (from_pool : pool_of (slice_get h o) ≡ Some pool) where
  never_single : (os : List ℕ) → IsSingle h os → 0 < in_list o os → ⊥
  never_single [] s some = omega (arith, some)
  never_single (y ∷ os) s some =
      let rest = ap (in_list o) s.2 in
      let is : o ≡ y = same_is o y (omega (arith, some, rest)) in
      let both : Some pool ≡ None = sym from_pool ∙ ap (λ (j : ℕ). pool_of (slice_get h j)) is ∙ s.0 in
      cc both

  only_member : {L : Listing} {is : List Item} {js : List storage.Item} → ((i x : ℕ) → L i x ≤ listing h i x) → ItemsFit h is → Items L is js → in_items o js ≡ in_members o js
  only_member less fit no_items = refl
  only_member less fit (passed n what none empty more) = only_member less fit.1 more
  only_member less fit (collected n access pool os count more) = let r = only_member less fit.1 more in omega (arith, r)
  only_member less fit (single n t y {is} {js} count more) = elim (eqb_tells o y) [
    | inl e ↦ absurd (never_single (listed_in h n) fit.0 (let a = less n o in let b = count o in let d = ap (same o) (sym e.1) in let self = same_self o in omega (arith, a, b, d, self)))
    | inr e ↦ (let z = same_other o y e.1 in let r = only_member less fit.1 more in omega (arith, z, r))
  ]

  apart_from : (A : Alive) (x : ℕ) → ((q : ℕ) → S.holds o q ≡ true → A o q ≡ true) → HasDead S A x → same o x ≡ 0
  apart_from A x all d = same_other o x apart
    where
      apart : o ≢ x
      apart e =
          let lives : A o d.part ≡ true = all d.part (ap (λ (y : ℕ). S.holds y d.part) e ∙ d.has) in
          let both : true ≡ false = sym lives ∙ ap (λ (y : ℕ). A y d.part) e ∙ d.dead in
          cc both

  pub one_place :
      {w : Bool} {L : Listing} {A : Alive} {acts : List (Activation Value)} {k : Control} {ms : List Master} {c : storage.Control} → ((q : ℕ) → S.holds o q ≡ true → A o q ≡ true)
      → ((i x : ℕ) → L i x ≤ listing h i x) → MastersFit h ms → Fits A T c → Reads types S w L A acts k ms c → (placed o c ≡ listed o c) × (assigned o c ≡ 0)
  one_place all less fit fits nothing = (refl, refl)
  one_place all less fit fits (code is rest) = one_place all less fit fits rest
  one_place all less fit fits (calls actuals references rest) = one_place all less fit fits rest
  one_place all less fit fits (enters f m is items rest) =
      let a = only_member less fit.0 items in
      let b = one_place all less fit.1 fits.2 rest in
      let d = b.0 in
      (omega (arith, a, d), b.1)
  one_place all less fit fits (operates rest) = one_place all less fit fits rest
  one_place {A = A} all less fit fits (treats_behind {L = L} {c = c} t waits acting rest is) =
      let there : Fits A T (before t c) = subst (λ (d : storage.Control). Fits A T d) is fits in
      let z = apart_from A (object_of t) all (waits_dead T c there waits) in
      let b = one_place (λ q has. alive_more A t o q (all q has)) (λ i x. let u = listing_less L t i x in let v = less i x in omega (arith, u, v)) fit (fits_behind A T t c there) rest in
      let p = ap (placed o) is in
      let p2 = placed_before o t c in
      let l = ap (listed o) is in
      let l2 = listed_before o t c in
      let a = ap (assigned o) is in
      let a2 = assigned_before o t c in
      let d = b.0 in
      let e = b.1 in
      let y = placed_by o t z in
      let v = assigned_by o t z in
      (omega (arith, p, p2, l, l2, d, y), omega (arith, a, a2, e, v))
  one_place {A = A} all less fit fits (leaves_behind x i pool mode tasks left dead m has none e items rest is) =
      let z = apart_from A x.0 all (record { part = dead; has = has; dead = dead_by (A x.0 dead) (fits.0.0 dead ∙ none) }) in
      let a = only_member less fit.0 items in
      let b = one_place all less fit.1 fits.2.2 rest in
      let d = b.0 in
      (omega (arith, z, a, d), b.1)

-- An object that is in its collection, and whose parts have values.
record IsStanding (h : Heap) (v : Value) (cell : Cell Value) : Type 0 where
  o : Id
  x : Object
  names : v ≡ Names o
  there : slice_get h o.0 ≡ Some x
  listed : x.listed ≡ true
  alive : all_alive x.cell.parts ≡ true
  lies : x.cell ≡ cell

both_true : (a b : Bool) (cell found : Cell Value) → (if a && b then finds cell else on_gone) ≡ finds found → (a ≡ true) × (b ≡ true) × (cell ≡ found)
both_true true true cell found e = (refl, refl, cc)
both_true true false cell found e = absurd (cc e)
both_true false b cell found e = absurd (cc e)

standing_found : (h : Heap) (o : Id) (found : Option Object) (cell : Cell Value) → slice_get h o.0 ≡ found → standing_by found ≡ finds cell → IsStanding h (Names o) cell
standing_found h o None cell is e = absurd (cc e)
standing_found h o (Some x) cell is e =
    let b = both_true x.listed (all_alive x.cell.parts) x.cell cell e in
    record { o = o; x = x; names = refl; there = is; listed = b.0; alive = b.1; lies = b.2 }

stands_there : (h : Heap) (v : Value) (cell : Cell Value) → standing h v ≡ finds cell → IsStanding h v cell
stands_there h Null cell e = absurd (cc e)
stands_there h (Names o) cell e = standing_found h o (slice_get h o.0) cell refl e
stands_there h (Scalar u) cell e = absurd (cc e)
stands_there h (Part o place) cell e = absurd (cc e)

each_by : (a b : Bool) → (a && b) ≡ true → (a ≡ true) × (b ≡ true)
each_by true b e = (refl, e)
each_by false b e = absurd (cc e)

each_lives : (ps : List PartState) (q : ℕ) → all_alive ps ≡ true → is_some (slice_get ps q) ≡ true → is_alive (slice_get ps q) ≡ true
each_lives [] q all has = absurd (cc has)
each_lives (p ∷ ps) zero all has = (each_by p.alive (all_alive ps) all).0
each_lives (p ∷ ps) (suc q) all has = each_lives ps q (each_by p.alive (all_alive ps) all).1 has

pool_is : (pool : ℕ) (found : Option ℕ) → same_pool (Some pool) found ≡ true → (p : ℕ) × (found ≡ Some p)
pool_is pool None e = absurd (cc e)
pool_is pool (Some p) e = (p, refl)

out_by : (x : Object) → x.listed ≡ true → IsFine x → x.out ≡ true
out_by x listed fine = go x.out refl
  where
    go : (b : Bool) → x.out ≡ b → x.out ≡ true
    go true e = e
    go false e = absurd (fine.1 listed (fine.0 e))

-- A step of code.
module _
    (types : List TypeDefinition) (s : storage.State) (e : Event) (y : State) (quiet : event_seen e ≡ storage.quiet) (h : Heap) (m : Master) (ms : List Master) (n : ℕ) (M : storage.Master) (c : storage.Control)
    (is : s.control ≡ storage.acts M c) (f : Facts types h (m ∷ ms) n s) (callers : List (Activation Value)) (same_callers : older y.activations ≡ callers) (run : s.mode ≡ storage.running) (holds : Holds s)
  where
    -- An object is freed.
    frees_follows :
        (v : Value) (pool : ℕ) (cell : Cell Value) (k : Control) → standing h v ≡ finds cell → same_pool (Some pool) cell.home.pool ≡ true
        → Reads types (static h) false (listing h) s.alive callers k (m ∷ ms) (storage.acts M c)
        → y.control ≡ treating v (ends (Freeing n)) (all_tasks types cell.access WholeFirst) (frame.Ends v ∷ frame.GivesBack v (Freeing n) (Some pool) ∷ k) → y.masters ≡ m ∷ ms → y.next ≡ n + 1 → y.heap ≡ on_object parted h v → y.mode ≡ Running
        → Follows types s e y
    frees_follows v pool cell k found fits_pool reads control masters next heap ymode =
        let t = stands_there h v cell found in
        let p = pool_is pool cell.home.pool fits_pool in
        let from_pool : pool_of (slice_get h t.o.0) ≡ Some p.0 = ap pool_of t.there ∙ ap (λ (d : Cell Value). d.home.pool) t.lies ∙ p.1 in
        let out : is_out (slice_get h t.o.0) ≡ true = ap is_out t.there ∙ out_by t.x t.listed (f.sound.fine t.o.0 t.x t.there) in
        let one = one_place types (static h) s.objects h t.o.0 p.0 from_pool
        (λ q has. f.shape.alive t.o.0 q ∙ ap (λ (d : Option Object). is_alive (part_of d q)) t.there ∙ each_lives t.x.cell.parts q t.alive (sym (ap (λ (d : Option Object). is_some (part_of d q)) t.there) ∙ has))
        (λ i x. omega arith) f.sound.fit (subst (λ (d : storage.Control). Fits s.alive s.objects d) is holds.fits) reads in
        let placed_once : placed t.o.0 (storage.acts M c) ≡ 1 = ap (placed t.o.0) (sym is) ∙ holds.places t.o.0 ∙ ap bit (f.out t.o.0 ∙ out) in
        let listed_once : listed t.o.0 (storage.acts M c) ≡ 1 = sym one.0 ∙ placed_once in
        let g = on_object parted h (Names t.o) in
        let u = unlists_parted h t.o t.x t.there in
        let number = f.next in
        let K = storage.parted t.o.0 (storage.acts M c) in
        let s1 = with_freed s M c is run t.o.0 in
        let ending = at_free (suc n) K in
        let access = t.x.cell.access in
        let tasks = all_tasks types access WholeFirst in
        let d = number_reached types access in
        let shape : (s.objects t.o.0).shape ≡ forest_for (shapes_of types) d = f.shape.shape t.o.0 ∙ ap (forest_seen types) t.there in
        let now : s1.control ≡ ending_frame ending t.o.0 (forest_for (shapes_of types) d ∷ []) =
        ap (λ (F : storage.Forest). storage.frees s.next t.o.0 (F ∷ []) K) shape ∙ ap (λ (i : ℕ). storage.frees i t.o.0 (forest_for (shapes_of types) d ∷ []) K) f.next in
        let more = starts_ending (shapes_of types) (are_table types) ending t.o.0 (λ c fs r. refl) d s1 now run in
        let r = at (ending_frame ending t.o.0 more.forests) s1 in
        let unlisted = facts_unlisted types (m ∷ ms) n s h g t.o.0 u f in
        lands_later types s s1 r e y g (m ∷ ms) (n + 1) Running (treating (Names t.o) (ends (Freeing n)) tasks (giving_up t.o n (Some pool) k))
        (subst (λ ev. Goes ev s s1) (sym quiet) (freed_one s M c is run t.o.0 0 listed_once one.1))
        more.steps
        (record {
          control = r.control;
          moded = storage.running;
          is_control = refl;
          is_moded = run;
          stands = freed t.o n (Some pool) tasks more.forests more.left tt (reads_callers same_callers (reads_parted t.o.0 h g u one.0 reads)) refl;
          facts = record { out = unlisted.out; shape = record { shape = unlisted.shape.shape; alive = unlisted.shape.alive; turn = unlisted.shape.turn }; created = unlisted.created; next = omega (arith, number); sound = unlisted.sound };
        })
        (heap ∙ ap (λ (w : Value). on_object parted h w) t.names) masters next ymode
        (control ∙ ap (λ (d : Cell Value). treating v (ends (Freeing n)) (all_tasks types d.access WholeFirst) (frame.Ends v ∷ frame.GivesBack v (Freeing n) (Some pool) ∷ k)) (sym t.lies)
        ∙ ap (λ (w : Value). treating w (ends (Freeing n)) tasks (frame.Ends w ∷ frame.GivesBack w (Freeing n) (Some pool) ∷ k)) t.names)

    -- Each step of code.
    pub work_follows : (b : Control) → Reads types (static h) false (listing h) s.alive callers b (m ∷ ms) (storage.acts M c) → Work types b (m ∷ ms) n h Running e y → Follows types s e y
    work_follows b r (stays q over masters next heap) =
        same_follows types s e y quiet h m ms n M c is f callers same_callers h (alike_same h) masters next heap (over_reads over r)
    work_follows b r (fills o from vs q over masters next heap) =
        same_follows types s e y quiet h m ms n M c is f callers same_callers (stored_from named h o from vs) (alike_stored h o from vs) masters next heap (over_reads over r)
    work_follows b r (owns what bare q over masters next heap ymode) =
        owns_follows types s e y quiet h m ms n M c is f callers same_callers run b r what bare masters next heap ymode over
    work_follows b r (makes t by cell l firsts created new q control over masters next heap at_c from_none ymode) =
        makes_follows types s e y quiet h m ms n M c is f callers same_callers run b r holds t by cell l firsts created new masters next heap at_c from_none ymode control over
    work_follows b r (creates access cell home l firsts found at_c from_pool new q control over masters next heap ymode) =
        creates_follows types s e y quiet h m ms n M c is f callers same_callers run b r holds access cell home l firsts found at_c from_pool new masters next heap ymode control over
    work_follows b r (deeds.enters ds fs hs k q control over masters next heap ymode) =
        enters_follows types s e y quiet h m ms n M c is f callers same_callers run b r (frame.Elaborates ds fs hs) k refl masters next heap ymode control over
    work_follows b r (seeks target source t k q control over masters next heap ymode) =
        read_follows types s e y quiet h (m ∷ ms) n M c is f Running storage.running (frame.Refers target ∷ frame.Refers source ∷ frame.Assigns t ∷ k)
        (finding false source t (at_path target tt) (reads_callers same_callers (over_reads over r))) masters next heap ymode control
    work_follows b r (gives_up v pool cell k found same_one q control over masters next heap ymode) =
        frees_follows v pool cell k found same_one (over_reads over r) control masters next heap ymode
