-- Steps of code are followed where no object is freed.

use Rattle.std.proofs.Common.{◌≡◌, ◌≢◌, ℕ, suc, ◌+◌, Bool, true, false, cond, List, [], ◌∷◌, ◌++◌, length, map, Option, Some, None, refl, sym, ap, ◌∙◌, inl, inr, subst, arith, length-append}
use Rattle.std.proofs.lemmas.Bool.Decides.{eqb_tells}
use Rattle.std.specs.Prelude.{◌==◌, is_some}
use Rattle.std.specs.List.{slice_get}
use Rattle.ada_program.specs.declared.program.TypeDefinition.{TypeDefinition}
use Rattle.ada_program.specs.Controlled.{number_reached, shapes_of}
use Rattle.ada_parts.specs.declared.tasks.Direction.TheVariants.{PartsFirst}
use Rattle.ada_meaning.specs.declared.event.Birth.{Birth}
use Rattle.ada_meaning.specs.declared.event.Birth.TheVariants.{Creation}
use Rattle.ada_meaning.specs.declared.state.Id.{Id}
use Rattle.ada_meaning.specs.declared.state.Value.{Value}
use Rattle.ada_meaning.specs.declared.state.Value.TheVariants.{Names}
use Rattle.ada_meaning.specs.declared.state.Mode.{Mode}
use Rattle.ada_meaning.specs.declared.state.Mode.TheVariants.{Running}
use Rattle.ada_meaning.specs.Frame.{begins, Frame, is_master}
use Rattle.ada_meaning.specs.Heap.{Cell}
use Rattle.ada_meaning.specs.State.{Activation, Owned, declared, collection, record_object, storage_pool, Master, Destination, height, home_of}
use Rattle.ada_meaning.specs.Step.{older, new_part, all_tasks, treating, owning}
use Rattle.ada_meaning.specs.Named.{Object, State, new_object}
use Rattle.ada_meaning.specs.Run.{Event}
use Rattle.ada_meaning.proofs.Treatments.{are_table}
use Rattle.ada_storage.specs.State.{put, placed, bit, same, in_list}
use Rattle.ada_storage.specs.State as storage
use Rattle.ada_storage.specs.Step.{Simple, at, at_creation, calls, is_above, allocates_by, owns_by}
use Rattle.ada_storage.specs.Step as does
use Rattle.ada_storage.specs.Following.{Goes}
use Rattle.ada_storage.proofs.Facts.{same_self, same_other}
use Rattle.ada_storage.proofs.Invariant.{Alive}
use Rattle.ada_following.specs.Reading.{event_seen, mode_seen, listed_in, is_out, part_of, joins_by as joined_by, joins_seen, master_with}
use Rattle.ada_following.specs.Forests.{forest_for}
use Rattle.ada_following.proofs.Forests.{simple_for}
use Rattle.ada_following.proofs.Heaps.{Heap, add_here, add_there, put_add, not_listed, Alike}
use Rattle.ada_following.proofs.PartTables.{nothing_at_end, parts_kept, parts_added}
use Rattle.ada_following.proofs.Places.{Listing, no_items, passed, collected, master_once, home_found, counted_below, height_not_in, above_seen}
use Rattle.ada_following.proofs.Frames.{Control, Over, Static, static, listing, but, Joining, as_item, as_member, IsCreated, Reads, enters}
use Rattle.ada_following.proofs.Readings.{Knows, reads_more, opens_once, acting, over_reads}
use Rattle.ada_following.proofs.Stands.{Stands, codes}
use Rattle.ada_following.proofs.Sound.{IsBare, Joins, Sound, sound_alike, sound_entered, sound_owns, sound_makes, joins_one, sound_creates}
use Rattle.ada_following.proofs.Goings.{Holds, by_running, one_more, goes_silent, by_none, moded, entered, collected as collects_one}
use Rattle.ada_following.proofs.Follows.{Facts, Follows, lands, lands_later, reads_alike, reads_same}
use Rattle.ada_following.proofs.Creating.{starts, settles_made, facts_at}

-- Other callers that are the same.
pub reads_callers :
    {types : List TypeDefinition} {S : Static} {w : Bool} {L : Listing} {A : Alive} {xs ys : List (Activation Value)} {k : Control} {ms : List Master} {c : storage.Control} → ys ≡ xs
    → Reads types S w L A xs k ms c → Reads types S w L A ys k ms c
reads_callers {types} {S} {w} {L} {A} {xs} {ys} {k} {ms} {c} e r = subst (λ (zs : List (Activation Value)). Reads types S w L A zs k ms c) (sym e) r

-- Tables of objects once one is created.
lives_by : (b : Bool) (home : ℕ) (f : storage.Forest) (object : storage.Object) → (cond b (record { home = home; shape = f; lives = true }) object).lives ≡ cond b true object.lives
lives_by true home f object = refl
lives_by false home f object = refl

out_added :
    (s : storage.State) (h : Heap) (cell : Cell Value) (home : ℕ) (f : storage.Forest) → ((o : ℕ) → (s.objects o).lives ≡ is_out (slice_get h o)) → s.created ≡ length h → (o : ℕ)
    → (put s.objects s.created (record { home = home; shape = f; lives = true }) o).lives ≡ is_out (slice_get (h ++ new_object cell ∷ []) o)
out_added s h cell home f out created o =
    lives_by (o == s.created) home f (s.objects o)
    ∙ ap (λ (c : ℕ). cond (o == c) true (s.objects o).lives) created
    ∙ ap (λ (b : Bool). cond (o == length h) true b) (out o)
    ∙ sym (put_add is_out h (new_object cell) o)

-- A new object was unknown.
knows_by : (h : Heap) (x : Object) (o p : ℕ) (found : Option Object) → slice_get h o ≡ found → is_some (part_of found p) ≡ true → slice_get (h ++ x ∷ []) o ≡ slice_get h o
knows_by h x o p None is e = absurd (cc e)
knows_by h x o p (Some y) is e = add_there h x o (λ at_end. let never : Some y ≡ None = sym is ∙ ap (slice_get h) at_end ∙ nothing_at_end h in absurd (cc never))

knows_new : (h : Heap) (x : Object) → Knows (static h) (static (h ++ x ∷ []))
knows_new h x = record {
  holds = λ o p e. ap (λ (f : Option Object). is_some (part_of f p)) (knows_by h x o p (slice_get h o) refl e) ∙ e;
  joins = λ o p e ms. ap (λ (f : Option Object). joins_seen f ms) (knows_by h x o p (slice_get h o) refl e);
}

-- It is listed, and nothing else.
listed_new : (h g : Heap) (c : ℕ) → Joins c (length h) h g → (i x : ℕ) → x ≢ length h → listing g i x ≡ listing h i x
listed_new h g c j i x ne = elim (eqb_tells i c) [ inl e ↦ here e.1 | inr e ↦ ap (in_list x) (j.elsewhere i e.1) ]
  where
    here : i ≡ c → listing g i x ≡ listing h i x
    here e =
        let a = ap (λ (n : ℕ). listing g n x) e in
        let b = ap (in_list x) j.there in
        let d = same_other x (length h) ne in
        let f = ap (λ (n : ℕ). listing h n x) e in
        omega (arith, a, b, d, f)

without_new : (h g : Heap) (c : ℕ) → Joins c (length h) h g → but (length h) (listing g) ≡ listing h
without_new h g c j = λ k i x. at_one i x k
  where
    at_one : (i x : ℕ) → but (length h) (listing g) i x ≡ listing h i x
    at_one i x = elim (eqb_tells x (length h)) [
      | inl e ↦ (ap (λ (b : Bool). cond b 0 (listing g i x)) e.0 ∙ sym (not_listed h i) ∙ ap (listing h i) (sym e.1))
      | inr e ↦ (ap (λ (b : Bool). cond b 0 (listing g i x)) e.0 ∙ listed_new h g c j i x e.1)
    ]

listed_there : (h g : Heap) (c : ℕ) → Joins c (length h) h g → listing g c (length h) ≡ 1
listed_there h g c j =
    let a = ap (in_list (length h)) j.there in
    let b = same_self (length h) in
    let d = not_listed h c in
    omega (arith, a, b, d)

listed_off : (h g : Heap) (c : ℕ) → Joins c (length h) h g → (i : ℕ) → i ≢ c → listing g i (length h) ≡ 0
listed_off h g c j i ne = ap (in_list (length h)) (j.elsewhere i ne) ∙ not_listed h i

pub facts_alike : {types : List TypeDefinition} {ms : List Master} {n : ℕ} {s : storage.State} (h g : Heap) → Alike h g → Facts types h ms n s → Facts types g ms n s
facts_alike {types} {ms} {n} {s} h g u f = record {
  out = λ o. f.out o ∙ sym (u.out o);
  shape = parts_kept types h g s.objects s.alive s.turn u.access u.parts f.shape;
  created = f.created ∙ sym u.count;
  next = f.next;
  sound = sound_alike h g ms u f.sound;
}

-- The same for another mode of storage.
pub facts_moded : {types : List TypeDefinition} {h : Heap} {ms : List Master} {n : ℕ} {s : storage.State} (c : storage.Control) (mode : storage.Mode) → Facts types h ms n s → Facts types h ms n (record s { control = c; mode = mode })
facts_moded c mode f = record { out = f.out; shape = record { shape = f.shape.shape; alive = f.shape.alive; turn = f.shape.turn }; created = f.created; next = f.next; sound = f.sound }

-- What is left to do is read as code, which perhaps raises an exception.
pub read_follows :
    (types : List TypeDefinition) (s : storage.State) (e : Event) (y : State) → event_seen e ≡ storage.quiet → (h : Heap) (ms : List Master) (n : ℕ) (M : storage.Master) (c : storage.Control)
    → s.control ≡ storage.acts M c → Facts types h ms n s → (md : Mode) (sm : storage.Mode) (l : Control) → Stands types h s.alive y.activations ms md l (storage.acts M c) sm
    → y.masters ≡ ms → y.next ≡ n → y.heap ≡ h → y.mode ≡ md → y.control ≡ l → Follows types s e y
read_follows types s e y quiet h ms n M c is f md sm l stands masters next heap ymode control =
    let t = record s { control = storage.acts M c; mode = sm } in
    lands types s t e y h ms n md l (subst (λ ev. Goes ev s t) (sym quiet) (moded s M c sm is))
    (record { control = storage.acts M c; moded = sm; is_control = refl; is_moded = refl; stands = stands; facts = facts_moded (storage.acts M c) sm f })
    heap masters next ymode control

module _
    (types : List TypeDefinition) (s : storage.State) (e : Event) (y : State) (quiet : event_seen e ≡ storage.quiet) (h : Heap) (m : Master) (ms : List Master) (n : ℕ)
    (M : storage.Master) (c : storage.Control) (is : s.control ≡ storage.acts M c) (f : Facts types h (m ∷ ms) n s)
    (behind : List (Activation Value)) (callers : older y.activations ≡ behind)
  where
    -- Nothing changes that storage sees, but perhaps the mode.
    pub same_follows :
        (g : Heap) → Alike h g → y.masters ≡ m ∷ ms → y.next ≡ n → y.heap ≡ g
        → Reads types (static h) false (listing h) s.alive behind y.control (m ∷ ms) (storage.acts M c) → Follows types s e y
    same_follows g alike masters next heap r =
        let t = record s { control = storage.acts M c; mode = mode_seen y.mode } in
        lands types s t e y g (m ∷ ms) n y.mode y.control
        (subst (λ ev. Goes ev s t) (sym quiet) (moded s M c (mode_seen y.mode) is))
        (record {
          control = storage.acts M c;
          moded = mode_seen y.mode;
          is_control = refl;
          is_moded = refl;
          stands = codes (reads_callers callers (reads_alike h g alike r));
          facts = facts_alike h g alike (facts_moded (storage.acts M c) (mode_seen y.mode) f);
        })
        heap masters next refl refl

    -- Code is running.
    module _ (run : s.mode ≡ storage.running) (b : Control) (r : Reads types (static h) false (listing h) s.alive behind b (m ∷ ms) (storage.acts M c)) where
      -- The innermost master owns more.
      pub owns_follows :
          (what : Owned) → IsBare what → y.masters ≡ owning (record { number = height (m ∷ ms); owned = what }) (m ∷ ms) → y.next ≡ n → y.heap ≡ h → y.mode ≡ Running → Over b y.control → Follows types s e y
      owns_follows (declared v) bare masters next heap ymode over =
          let i = height (m ∷ ms) in
          let a = acting r in
          let none = f.sound.beyond i (omega arith) in
          lands types s s e y h _ n Running y.control (subst (λ ev. Goes ev s s) (sym quiet) (by_none s s refl))
          (record {
            control = storage.acts (record { number = suc m.number; items = a.js }) c;
            moded = storage.running;
            is_control = is ∙ ap (λ (N : storage.Master). storage.acts N c) a.seen;
            is_moded = run;
            stands = codes (reads_callers callers (over_reads over (a.change (record { number = i; owned = declared v } ∷ m.items) a.js (passed i (declared v) tt (λ o. ap (in_list o) none) a.items))));
            facts = record { out = f.out; shape = f.shape; created = f.created; next = f.next; sound = sound_owns h (declared v) m ms tt f.sound };
          })
          heap masters next ymode refl
      owns_follows (storage_pool d p) bare masters next heap ymode over =
          let i = height (m ∷ ms) in
          let a = acting r in
          let none = f.sound.beyond i (omega arith) in
          lands types s s e y h _ n Running y.control (subst (λ ev. Goes ev s s) (sym quiet) (by_none s s refl))
          (record {
            control = storage.acts (record { number = suc m.number; items = a.js }) c;
            moded = storage.running;
            is_control = is ∙ ap (λ (N : storage.Master). storage.acts N c) a.seen;
            is_moded = run;
            stands = codes (reads_callers callers (over_reads over (a.change (record { number = i; owned = storage_pool d p } ∷ m.items) a.js (passed i (storage_pool d p) tt (λ o. ap (in_list o) none) a.items))));
            facts = record { out = f.out; shape = f.shape; created = f.created; next = f.next; sound = sound_owns h (storage_pool d p) m ms tt f.sound };
          })
          heap masters next ymode refl
      owns_follows (record_object t) bare masters next heap ymode over = absurd bare
      owns_follows (collection access pool) bare masters next heap ymode over =
          let i = height (m ∷ ms) in
          let a = acting r in
          let none = f.sound.beyond i (omega arith) in
          let above = above_seen i a.items (counted_below (height ms) i m.items (omega arith) f.sound.counted.0) in
          let t = at (storage.acts (record { number = suc m.number; items = record { number = i; owned = storage.collection [] } ∷ a.js }) c) s in
          lands types s t e y h _ n Running y.control
          (subst (λ ev. Goes ev s t) (sym quiet) (collects_one s (record { number = suc m.number; items = a.js }) c (is ∙ ap (λ (N : storage.Master). storage.acts N c) a.seen) run i above))
          (record {
            control = t.control;
            moded = storage.running;
            is_control = refl;
            is_moded = run;
            stands = codes (reads_callers callers (over_reads over (a.change (record { number = i; owned = collection access pool } ∷ m.items) _ (collected i access pool [] (λ o. sym (ap (in_list o) none)) a.items))));
            facts = record { out = f.out; shape = record { shape = f.shape.shape; alive = f.shape.alive; turn = f.shape.turn }; created = f.created; next = f.next; sound = sound_owns h (collection access pool) m ms tt f.sound };
          })
          heap masters next ymode refl

      -- A master is entered.
      pub enters_follows :
          (g : Frame Value) (k : Control) → is_master g ≡ true → y.masters ≡ record { number = n; items = [] } ∷ m ∷ ms → y.next ≡ n + 1 → y.heap ≡ h → y.mode ≡ Running → y.control ≡ g ∷ k → Over b k → Follows types s e y
      enters_follows g k is_g masters next heap ymode control over =
          let number = f.next in
          let t = calls (storage.acts M c) s in
          lands types s t e y h (record { number = n; items = [] } ∷ m ∷ ms) (n + 1) Running (g ∷ k)
          (subst (λ ev. Goes ev s t) (sym quiet) (entered s M c is run))
          (record {
            control = storage.acts (record { number = suc n; items = [] }) (storage.acts M c);
            moded = storage.running;
            is_control = ap (λ (i : ℕ). storage.acts (record { number = i; items = [] }) (storage.acts M c)) f.next;
            is_moded = run;
            stands = codes (enters g (record { number = n; items = [] }) is_g no_items (reads_callers callers (over_reads over r)));
            facts = record { out = f.out; shape = record { shape = f.shape.shape; alive = f.shape.alive; turn = f.shape.turn }; created = f.created; next = omega (arith, number); sound = sound_entered h n (m ∷ ms) f.sound };
          })
          heap masters next ymode control

      -- A new object.
      module _ (holds : Holds s) (cell : Cell Value) (firsts : List ℕ) (i : ℕ) (new : cell.parts ≡ map new_part firsts) (at_i : cell.home.item ≡ i) where
        abbrev with_new : Heap
        with_new = h ++ new_object cell ∷ []

        abbrev newest : Id
        newest = record { 0 = length h }

        new_there : slice_get with_new (length h) ≡ Some (new_object cell)
        new_there = add_here h (new_object cell)

        listed_once : Joins i (length h) h with_new
        listed_once = joins_one h i cell at_i

        no_place : placed (length h) (storage.acts M c) ≡ 0
        no_place =
            ap (placed (length h)) (sym is) ∙ holds.places (length h)
            ∙ ap bit (f.out (length h) ∙ ap is_out (nothing_at_end h))

        -- what is behind it
        behind_new : {k : Control} {ns : List Master} {d : storage.Control} → Reads types (static h) false (listing h) s.alive behind k ns d → Reads types (static with_new) false (but (length h) (listing with_new)) s.alive (older y.activations) k ns d
        behind_new reads = reads_callers callers (reads_more (static with_new) (knows_new h (new_object cell)) (reads_same refl (without_new h with_new i listed_once) reads))

        -- its parts, behind storage sees them
        abbrev forest : storage.Forest
        forest = forest_for (shapes_of types) (number_reached types cell.access)

        simple : Simple forest
        simple = simple_for (shapes_of types) (number_reached types cell.access)

        -- storage has created it
        created_facts : (home : ℕ) (joins : storage.Joins) (N : storage.Master) (ns : List Master) → Sound with_new ns → Facts types with_new ns n (does.creates home joins forest N c s)
        created_facts home joins N ns sound =
            let l = length-append h (new_object cell ∷ []) in
            let number = f.created in
            record {
              out = out_added s h cell home forest f.out f.created;
              shape = parts_added types h (new_object cell) firsts s.created (record { home = home; shape = forest; lives = true }) s.objects s.alive s.turn new f.created refl f.shape;
              created = omega (arith, l, number);
              next = f.next;
              sound = sound;
            }

        begun :
            (home : ℕ) (joins : storage.Joins) (choice : does.Choice) (N : storage.Master) (ns : List Master) (by : Birth) (k : Control) → IsCreated by → M ≡ N
            → does.running_step choice (storage.acts N c) s ≡ does.goes storage.quiet (does.creates home joins forest N c s)
            → Sound with_new ns → joins_seen (slice_get with_new (length h)) ns ≡ joins → Joining (listing with_new) (length h) ns joins
            → Reads types (static h) false (listing h) s.alive behind k ns (storage.acts N c)
            → y.heap ≡ with_new → y.masters ≡ ns → y.next ≡ n → y.mode ≡ Running → y.control ≡ treating (Names newest) (begins by []) (all_tasks types cell.access PartsFirst) k
            → Follows types s e y
        begun home joins choice N ns by k created same_master steps sound is_joins joining reads heap masters next ymode control =
            let r0 = does.creates home joins forest N c s in
            let K = storage.acts N c in
            let f0 = created_facts home joins N ns sound in
            let is_s : s.control ≡ K = is ∙ ap (λ (P : storage.Master). storage.acts P c) same_master in
            let is_r : r0.control ≡ storage.initializes (length h) joins (storage.all_in forest ∷ []) [] K = ap (λ (o : ℕ). storage.initializes o joins (storage.all_in forest ∷ []) [] K) f.created in
            let more = starts (shapes_of types) (are_table types) (at_creation joins K) (length h) [] (λ c js q. refl) (number_reached types cell.access) r0 is_r run in
            let r1 = at (storage.initializes (length h) joins more.jobs [] K) r0 in
            let z = settles_made types y.activations with_new n k ns newest (new_object cell) by more.jobs [] joins K (all_tasks types cell.access PartsFirst) r1 created new_there is_joins joining tt
            (ap (λ (P : storage.Master). placed (length h) (storage.acts P c)) (sym same_master) ∙ no_place) (behind_new reads) refl run more.left (facts_at r1.control f0) in
            lands_later types s r1 z.state e y with_new ns n Running (treating (Names newest) (begins by []) (all_tasks types cell.access PartsFirst) k)
            (subst (λ ev. Goes ev s r1) (sym quiet) (goes_silent s r1 (one_more s r0 r1 choice (by_running s K choice storage.quiet r0 is_s run steps) more.steps)))
            z.steps z.arrived heap masters next ymode control

      -- An object is declared.
      pub makes_follows :
          (holds : Holds s) (t : ℕ) (by : Birth) (cell : Cell Value) (l : Control) (firsts : List ℕ) → IsCreated by → cell.parts ≡ map new_part firsts
          → y.masters ≡ owning (record { number = height (m ∷ ms); owned = record_object t }) (m ∷ ms) → y.next ≡ n → y.heap ≡ h ++ new_object cell ∷ []
          → cell.home.item ≡ height (m ∷ ms) → cell.home.pool ≡ None → y.mode ≡ Running
          → y.control ≡ treating (Names (record { 0 = length h })) (begins by []) (all_tasks types cell.access PartsFirst) l → Over b l → Follows types s e y
      makes_follows holds t by cell l firsts created new masters next heap at_i from_none ymode control over =
          let i = height (m ∷ ms) in
          let g = h ++ new_object cell ∷ [] in
          let ns : List Master = owning (record { number = i; owned = record_object t }) (m ∷ ms) in
          let a = acting r in
          let none = f.sound.beyond i (omega arith) in
          let j = listed_once holds cell firsts i new at_i in
          let there : listed_in g i ≡ length h ∷ [] = j.there ∙ ap (λ (os : List ℕ). length h ∷ os) none in
          begun holds cell firsts i new at_i (suc m.number) storage.to_items (does.declares (forest holds cell firsts i new at_i) (simple holds cell firsts i new at_i))
          (record { number = suc m.number; items = a.js }) ns by l created a.seen refl
          (sound_makes h cell t m ms at_i from_none f.sound)
          (ap (λ (found : Option Object). joins_seen found ns) (new_there holds cell firsts i new at_i) ∙ ap (λ (p : Option ℕ). joined_by p cell.home.item ns) from_none)
          (as_item m.number i t m.items ms (λ x. let d = ap (in_list x) there in omega (arith, d)) (listed_off h g i j)
          (counted_below (height ms) i m.items (omega arith) f.sound.counted.0) (height_not_in i (m ∷ ms) (omega arith) f.sound.counted).1)
          (over_reads over (a.change (record { number = i; owned = record_object t } ∷ m.items) a.js (passed i (record_object t) tt (λ o. ap (in_list o) none) a.items)))
          heap masters next ymode control

      -- An object is allocated.
      pub creates_follows :
          (holds : Holds s) (access : ℕ) (cell : Cell Value) (home : Destination) (l : Control) (firsts : List ℕ) → home_of access (m ∷ ms) ≡ Some home → cell.home.item ≡ home.item → cell.home.pool ≡ Some home.pool
          → cell.parts ≡ map new_part firsts → y.masters ≡ m ∷ ms → y.next ≡ n → y.heap ≡ h ++ new_object cell ∷ [] → y.mode ≡ Running
          → y.control ≡ treating (Names (record { 0 = length h })) (begins Creation []) (all_tasks types cell.access PartsFirst) l → Over b l → Follows types s e y
      creates_follows holds access cell home l firsts found at_i from_pool new masters next heap ymode control over =
          let d = home_found access (m ∷ ms) home f.sound.counted found in
          let g = h ++ new_object cell ∷ [] in
          let i = home.item in
          let j = listed_once holds cell firsts i new at_i in
          let joins_here : joins_seen (slice_get g (length h)) (m ∷ ms) ≡ storage.to_collection d.master i =
          ap (λ (x : Option Object). joins_seen x (m ∷ ms)) (new_there holds cell firsts i new at_i) ∙ ap (λ (p : Option ℕ). joined_by p cell.home.item (m ∷ ms)) from_pool
          ∙ ap (λ (q : ℕ). storage.to_collection (master_with q (m ∷ ms)) q) at_i ∙ ap (λ (a : ℕ). storage.to_collection a i) (master_once d.master i (m ∷ ms) d.once) in
          begun holds cell firsts i new at_i d.master (storage.to_collection d.master i) (does.allocates d.master i (forest holds cell firsts i new at_i) (simple holds cell firsts i new at_i)) M (m ∷ ms) Creation l tt refl
          (ap (λ (q : ℕ). allocates_by q d.master i (forest holds cell firsts i new at_i) M c s) (opens_once d.master i d.once r))
          (sound_creates h d.master i cell (m ∷ ms) at_i d.once d.most f.sound)
          joins_here (as_member d.master i (listed_there h g i j) (listed_off h g i j) d.once) (over_reads over r)
          heap masters next ymode control
