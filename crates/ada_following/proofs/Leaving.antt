-- Each step at the leaving of a master is followed.

use Rattle.std.proofs.Common.{◌≡◌, ℕ, suc, ◌+◌, ◌<◌, true, false, List, [], ◌∷◌, length, map, Option, Some, None, refl, sym, ap, ◌∙◌, inl, inr, subst, arith}
use Rattle.std.proofs.lemmas.List.{length-map}
use Rattle.std.proofs.lemmas.Bool.Decides.{eqb_tells}
use Rattle.std.specs.List.{slice_get, slice_index_or}
use Rattle.ada_program.specs.declared.program.TypeDefinition.{TypeDefinition}
use Rattle.ada_program.specs.Controlled.{number_reached, shapes_of}
use Rattle.ada_parts.specs.declared.tasks.Direction.TheVariants.{WholeFirst}
use Rattle.ada_meaning.specs.declared.state.Id.{Id}
use Rattle.ada_meaning.specs.declared.state.Value.{Value}
use Rattle.ada_meaning.specs.declared.state.Value.TheVariants.{Null, Names}
use Rattle.ada_meaning.specs.declared.state.Mode.{Mode}
use Rattle.ada_meaning.specs.declared.state.Mode.TheVariants.{Running}
use Rattle.ada_meaning.specs.declared.event.Cause.TheVariants.{Leaving}
use Rattle.ada_meaning.specs.Frame.{ends}
use Rattle.ada_meaning.specs.Frame as frame
use Rattle.ada_meaning.specs.Event.{Quiet}
use Rattle.ada_meaning.specs.State.{Owned, declared, collection, record_object, storage_pool, Item, Master}
use Rattle.ada_meaning.specs.Heap.{Cell, Found}
use Rattle.ada_meaning.specs.Step.{older, all_tasks, treating, taken_out, taken as taken_state, members_next, item_leave_next, master_leave_next}
use Rattle.ada_meaning.specs.Named.{Object, State, named, look, members_of, on_object, parted}
use Rattle.ada_meaning.proofs.Treatments.{are_table}
use Rattle.ada_storage.specs.State.{in_list, in_items, in_members, placed, listed, bit, same, without}
use Rattle.ada_storage.specs.State as storage
use Rattle.ada_storage.specs.Step.{at, at_leaving, frame as ending_frame}
use Rattle.ada_storage.specs.Following.{Goes}
use Rattle.ada_storage.proofs.Facts.{same_self, same_other, same_is, bit_le, is_alive}
use Rattle.ada_following.specs.Forests.{forest_for}
use Rattle.ada_following.specs.Reading.{number, mode_seen, listed_in, forest_seen}
use Rattle.ada_following.proofs.Heaps.{Heap, AreFine, unlists_parted, member_listed}
use Rattle.ada_following.proofs.Places.{IsNoCollection, Items, no_items, passed, collected, single, members_le, listed_le, items_drop}
use Rattle.ada_following.proofs.Frames.{Control, static, listing, taking, Reads}
use Rattle.ada_following.proofs.Stands.{codes, leaving, taken}
use Rattle.ada_following.proofs.Sound.{sound_left, sound_shorter}
use Rattle.ada_following.proofs.Goings.{Holds, stands_still, by_none, left_one, closed_one, taken_one, declared_out}
use Rattle.ada_following.proofs.Heads.{out_there, look_listed, picked}
use Rattle.ada_following.proofs.Creating.{starts_ending, facts_at}
use Rattle.ada_following.proofs.Coding.{facts_moded}
use Rattle.ada_following.proofs.Treated.{AllFollow, with_all}
use Rattle.ada_following.proofs.Passing.{drops_listed, items_away, reads_unlisted, reads_parted, facts_unlisted}
use Rattle.ada_following.proofs.Seen.{no_list}
use Rattle.ada_following.proofs.Follows.{Facts, Follows}

none_named : (ids : List Id) → map number ids ≡ [] → map Names ids ≡ []
none_named [] e = refl
none_named (o ∷ ids) e = absurd (cc e)

none_numbered : (ids : List Id) → map Names ids ≡ [] → map number ids ≡ []
none_numbered [] e = refl
none_numbered (o ∷ ids) e = absurd (cc e)

-- The leaving of a master with these items.
module _
    (types : List TypeDefinition) (x : State) (s : storage.State) (h : Heap) (a : ℕ) (ms : List Master) (mode : Mode) (k : Control) (c : storage.Control)
    (reads : Reads types (static h) false (listing h) s.alive (older x.activations) k ms c) (run : s.mode ≡ storage.running) (holds : Holds s)
  where
    -- the state of the program, with this left to do
    abbrev left_with : List Item → Control → State
    left_with is l = with_all x h (record { number = a; items = is } ∷ ms) Running l

    -- storage is leaving it
    abbrev Leaves : List storage.Item → Type 0
    Leaves js = s.control ≡ storage.leaves (record { number = suc a; items = js }) (mode_seen mode) c

    -- the leaving goes on
    goes_leaving : (is : List Item) (js : List storage.Item) → Items (listing h) is js → Goes storage.quiet s (at (storage.leaves (record { number = suc a; items = js }) (mode_seen mode) c) s) → Facts types h (record { number = a; items = is } ∷ ms) x.next s → Follows types s Quiet (left_with is (frame.Leaves mode ∷ k))
    goes_leaving is js items goes f =
        let t = at (storage.leaves (record { number = suc a; items = js }) (mode_seen mode) c) s in
        record {
          reached = t;
          to = t;
          goes = goes;
          later = stands_still t t refl;
          arrived =
              record {
                control = t.control;
                moded = storage.running;
                is_control = refl;
                is_moded = run;
                stands = leaving mode (record { number = a; items = is }) items reads;
                facts = facts_at t.control f;
              };
        }

    shorter_facts : (i : Item) (is : List Item) → listed_in h i.number ≡ [] → Facts types h (record { number = a; items = i ∷ is } ∷ ms) x.next s → Facts types h (record { number = a; items = is } ∷ ms) x.next s
    shorter_facts i is z f = record { out = f.out; shape = f.shape; created = f.created; next = f.next; sound = sound_shorter h a i is ms z f.sound }

    -- An item is none for storage, and goes.
    drops : (i : Item) (is : List Item) (js : List storage.Item) → Items (listing h) is js → Leaves js → ((o : ℕ) → listing h i.number o ≡ 0) → Facts types h (record { number = a; items = i ∷ is } ∷ ms) x.next s → Follows types s Quiet (left_with is (frame.Leaves mode ∷ k))
    drops i is js items e none f =
        goes_leaving is js items (by_none s (at (storage.leaves (record { number = suc a; items = js }) (mode_seen mode) c) s) (λ i. record s { control = e i }))
        (shorter_facts i is (no_list (listed_in h i.number) none) f)

    -- An object that is taken, and how that is followed.
    record IsTaken (n : ℕ) (pool : Option ℕ) (o : Id) (is : List Item) : Type 0 where
      object : Object
      there : slice_get h o.0 ≡ Some object
      follows :
          Follows types s Quiet
          (with_all x (on_object parted h (Names o)) (record { number = a; items = is } ∷ ms) Running
          (treating (Names o) (ends (Leaving a n)) (all_tasks types object.cell.access WholeFirst) (taking o a n pool mode k)))

    -- Storage takes it.
    taken_follows :
        (n : ℕ) (pool : Option ℕ) (o : Id) (is : List Item) (js : List storage.Item) (d : storage.Control) (object : Object) → slice_get h o.0 ≡ Some object
        → Facts types h (record { number = a; items = is } ∷ ms) x.next s
        → Goes storage.quiet s (at (storage.finalizes (record { number = suc a; items = js }) n o.0 ((s.objects o.0).shape ∷ []) (mode_seen mode) d) s)
        → Items (listing (on_object parted h (Names o))) is js
        → Reads types (static (on_object parted h (Names o))) false (listing (on_object parted h (Names o))) s.alive (older x.activations) k ms d
        → Follows types s Quiet
        (with_all x (on_object parted h (Names o)) (record { number = a; items = is } ∷ ms) Running
        (treating (Names o) (ends (Leaving a n)) (all_tasks types object.cell.access WholeFirst) (taking o a n pool mode k)))
    taken_follows n pool o is js d object there f goes items behind =
        let g = on_object parted h (Names o) in
        let m : Master = record { number = a; items = is } in
        let M : storage.Master = record { number = suc a; items = js } in
        let u = unlists_parted h o object there in
        let ending = at_leaving M n (mode_seen mode) d in
        let tasks = all_tasks types object.cell.access WholeFirst in
        let t = number_reached types object.cell.access in
        let s1 = at (storage.finalizes M n o.0 ((s.objects o.0).shape ∷ []) (mode_seen mode) d) s in
        let shape : (s.objects o.0).shape ≡ forest_for (shapes_of types) t = f.shape.shape o.0 ∙ ap (forest_seen types) there in
        let now : s1.control ≡ ending_frame ending o.0 (forest_for (shapes_of types) t ∷ []) =
        ap (λ (F : storage.Forest). storage.finalizes M n o.0 (F ∷ []) (mode_seen mode) d) shape in
        let more = starts_ending (shapes_of types) (are_table types) ending o.0 (λ c fs r. refl) t s1 now run in
        let r = at (ending_frame ending o.0 more.forests) s1 in
        record {
          reached = s1;
          to = r;
          goes = goes;
          later = more.steps;
          arrived =
              record {
                control = r.control;
                moded = storage.running;
                is_control = refl;
                is_moded = run;
                stands = taken o n pool mode tasks more.forests m more.left items behind refl;
                facts = facts_at r.control (facts_unlisted types (m ∷ ms) x.next s h g o.0 u f);
              };
        }

    -- A member of a collection is taken.
    takes_member :
        (n access : ℕ) (pool : Option ℕ) (os : List ℕ) (is : List Item) (js : List storage.Item) (o : Id) (j : ℕ) → ((y : ℕ) → in_list y os ≡ listing h n y) → Items (listing h) is js
        → Facts types h (record { number = a; items = record { number = n; owned = collection access pool } ∷ is } ∷ ms) x.next s
        → Leaves (record { number = n; owned = storage.collection os } ∷ js) → in_list o.0 (listed_in h n) ≡ suc j
        → IsTaken n pool o (record { number = n; owned = collection access pool } ∷ is)
    takes_member n access pool os is js o j count items f e some =
        let all : List storage.Item = record { number = n; owned = storage.collection os } ∷ js in
        let g = on_object parted h (Names o) in
        let places : in_items o.0 all + placed o.0 c ≡ bit (s.objects o.0).lives = ap (placed o.0) (sym e) ∙ holds.places o.0 in
        let one = bit_le (s.objects o.0).lives in
        let there_some = count o.0 in
        let lives : (s.objects o.0).lives ≡ true = is_alive (s.objects o.0).lives 0 (omega (arith, places, one, some, there_some)) in
        let t = out_there h o.0 (sym (f.out o.0) ∙ lives) in
        let u = unlists_parted h o t.x t.there in
        let below = members_le o.0 js in
        let le = listed_le o.0 c in
        let member : in_items o.0 all ≡ in_members o.0 all = omega (arith, places, one, some, there_some, below) in
        let rest : placed o.0 c ≡ listed o.0 c = omega (arith, places, one, some, there_some, le) in
        record {
          object = t.x;
          there = t.there;
          follows =
              taken_follows n pool o (record { number = n; owned = collection access pool } ∷ is) (map (storage.parted_item o.0) all) (storage.parted o.0 c) t.x t.there f
              (taken_one s (suc a) (mode_seen mode) c run n o.0 j os js (there_some ∙ some) e)
              (items_drop o.0 (listing g) (drops_listed o.0 h g u) (collected n access pool os count items) member)
              (reads_parted o.0 h g u rest reads);
        }

    -- A record object is taken.
    takes_object :
        (n t : ℕ) (is : List Item) (js : List storage.Item) (o : Id) → ((y : ℕ) → listing h n y ≡ same y o.0) → Items (listing h) is js
        → Facts types h (record { number = a; items = record { number = n; owned = record_object t } ∷ is } ∷ ms) x.next s
        → Leaves (record { number = n; owned = storage.declared o.0 } ∷ js)
        → IsTaken n None o (record { number = n; owned = record_object t } ∷ is)
    takes_object n t is js o count items f e =
        let g = on_object parted h (Names o) in
        let places : (same o.0 o.0 + in_items o.0 js) + placed o.0 c ≡ bit (s.objects o.0).lives = ap (placed o.0) (sym e) ∙ holds.places o.0 in
        let self = same_self o.0 in
        let one = bit_le (s.objects o.0).lives in
        let lives : (s.objects o.0).lives ≡ true = is_alive (s.objects o.0).lives 0 (omega (arith, places, one, self)) in
        let there = out_there h o.0 (sym (f.out o.0) ∙ lives) in
        let u = unlists_parted h o there.x there.there in
        let d = drops_listed o.0 h g u in
        record {
          object = there.x;
          there = there.there;
          follows =
              taken_follows n None o (record { number = n; owned = record_object t } ∷ is) js c there.x there.there f
              (declared_out s (suc a) (mode_seen mode) c run n o.0 js e)
              (passed n (record_object t) tt (λ y. elim (eqb_tells y o.0) [
                | inl b ↦ (ap (listing g n) b.1 ∙ d.none n)
                | inr b ↦ (d.rest n y b.1 ∙ count y ∙ same_other y o.0 b.1)
              ]) (items_away o.0 (listing g) d (omega (arith, places, self, one)) items))
              (reads_unlisted o.0 h g u (omega (arith, places, self, one)) reads);
        }

    -- What the program takes.
    taken_is :
        (n : ℕ) (pool : Option ℕ) (o : Id) (is : List Item) (j : ℕ) (vs : List Value) (i : ℕ) → slice_index_or vs i Null ≡ Names o → in_list o.0 (listed_in h n) ≡ suc j → AreFine h → IsTaken n pool o is
        → Follows types s Quiet (taken_state named types (Leaving a n) pool vs (left_with is (frame.Leaves mode ∷ k)) i)
    taken_is n pool o is j vs i names some fine t =
        let y = left_with is (frame.Leaves mode ∷ k) in
        let found = look_listed h o t.object t.there (member_listed h n o.0 j t.object t.there some) fine in
        subst (λ (w : Value). Follows types s Quiet (taken_out named types (Leaving a n) pool w (look h w) y)) (sym names)
        (subst (λ (f : Found (Cell Value)). Follows types s Quiet (taken_out named types (Leaving a n) pool (Names o) f y)) (sym found) t.follows)

    -- The members of a collection, and then the collection itself.
    collection_leaves :
        (n access : ℕ) (pool : Option ℕ) (os : List ℕ) (is : List Item) (js : List storage.Item) (vs : List Value) → map Names (members_of h n) ≡ vs → ((y : ℕ) → in_list y os ≡ listing h n y) → Items (listing h) is js
        → Facts types h (record { number = a; items = record { number = n; owned = collection access pool } ∷ is } ∷ ms) x.next s → Leaves (record { number = n; owned = storage.collection os } ∷ js)
        → AllFollow types s (members_next named types (Leaving a n) pool vs (left_with (record { number = n; owned = collection access pool } ∷ is) (frame.Leaves mode ∷ k)))
    collection_leaves n access pool os is js [] are count items f e =
        let none : listed_in h n ≡ [] = none_numbered (members_of h n) are in
        let empty : os ≡ [] = no_list os (λ y. count y ∙ ap (in_list y) none) in
        goes_leaving is js items
        (closed_one s (suc a) (mode_seen mode) c run n js (e ∙ ap (λ (ps : List ℕ). storage.leaves (record { number = suc a; items = record { number = n; owned = storage.collection ps } ∷ js }) (mode_seen mode) c) empty))
        (shorter_facts (record { number = n; owned = collection access pool }) is none f)
    collection_leaves n access pool os is js (v ∷ vs) are count items f e = λ i lt.
        let less : i < length (map Names (members_of h n)) = subst (λ (us : List Value). i < length us) (sym are) lt in
        let p = picked (members_of h n) i (subst (λ (l : ℕ). i < l) (length-map (members_of h n) Names) less) in
        let names : slice_index_or (v ∷ vs) i Null ≡ Names p.o = ap (λ (us : List Value). slice_index_or us i Null) (sym are) ∙ p.names in
        taken_is n pool p.o (record { number = n; owned = collection access pool } ∷ is) p.less (v ∷ vs) i names p.counted f.sound.fine (takes_member n access pool os is js p.o p.less count items f e p.counted)

    -- A record object that is there.
    object_leaves :
        (n t o : ℕ) (is : List Item) (js : List storage.Item) (vs : List Value) → map Names (members_of h n) ≡ vs → ((y : ℕ) → listing h n y ≡ same y o) → Items (listing h) is js
        → Facts types h (record { number = a; items = record { number = n; owned = record_object t } ∷ is } ∷ ms) x.next s → Leaves (record { number = n; owned = storage.declared o } ∷ js)
        → AllFollow types s (members_next named types (Leaving a n) None vs (left_with (record { number = n; owned = record_object t } ∷ is) (frame.Leaves mode ∷ k)))
    object_leaves n t o is js [] are count items f e =
        let one = count o in let self = same_self o in let none = ap (in_list o) (none_numbered (members_of h n) are) in absurd (omega (arith, one, self, none))
    object_leaves n t o is js (v ∷ vs) are count items f e = λ i lt.
        let less : i < length (map Names (members_of h n)) = subst (λ (us : List Value). i < length us) (sym are) lt in
        let p = picked (members_of h n) i (subst (λ (l : ℕ). i < l) (length-map (members_of h n) Names) less) in
        let names : slice_index_or (v ∷ vs) i Null ≡ Names p.o = ap (λ (us : List Value). slice_index_or us i Null) (sym are) ∙ p.names in
        let one = count p.o.0 in
        let some = p.counted in
        let is_o : p.o.0 ≡ o = same_is p.o.0 o (omega (arith, one, some)) in
        taken_is n None p.o (record { number = n; owned = record_object t } ∷ is) p.less (v ∷ vs) i names p.counted f.sound.fine
        (takes_object n t is js p.o (λ y. count y ∙ ap (same y) (sym is_o)) items f (e ∙ ap (λ (z : ℕ). storage.leaves (record { number = suc a; items = record { number = n; owned = storage.declared z } ∷ js }) (mode_seen mode) c) (sym is_o)))

    -- The newest item.
    passed_leaves :
        (n : ℕ) (what : Owned) (is : List Item) (js : List storage.Item) → IsNoCollection what → ((o : ℕ) → listing h n o ≡ 0) → Items (listing h) is js → Facts types h (record { number = a; items = record { number = n; owned = what } ∷ is } ∷ ms) x.next s → Leaves js
        → AllFollow types s (item_leave_next named types a (record { number = n; owned = what }) what (left_with (record { number = n; owned = what } ∷ is) (frame.Leaves mode ∷ k)))
    passed_leaves n (declared v) is js none zero items f e = drops (record { number = n; owned = declared v }) is js items e zero f
    passed_leaves n (collection access pool) is js none zero items f e = absurd none
    passed_leaves n (record_object t) is js none zero items f e =
        subst (λ (vs : List Value). AllFollow types s (members_next named types (Leaving a n) None vs (left_with (record { number = n; owned = record_object t } ∷ is) (frame.Leaves mode ∷ k))))
        (sym (none_named (members_of h n) (no_list (listed_in h n) zero))) (drops (record { number = n; owned = record_object t }) is js items e zero f)
    passed_leaves n (storage_pool d p) is js none zero items f e = drops (record { number = n; owned = storage_pool d p }) is js items e zero f

    -- All items.
    pub items_leave : (is : List Item) (js : List storage.Item) → Items (listing h) is js → Facts types h (record { number = a; items = is } ∷ ms) x.next s → Leaves js → AllFollow types s (master_leave_next named types mode a is (left_with is k))
    items_leave _ _ no_items f e =
        let t = record s { control = c; mode = mode_seen mode } in
        record {
          reached = t;
          to = t;
          goes = left_one s (suc a) (mode_seen mode) c run e;
          later = stands_still t t refl;
          arrived =
              record {
                control = c;
                moded = mode_seen mode;
                is_control = refl;
                is_moded = refl;
                stands = codes reads;
                facts = facts_moded {s = s} c (mode_seen mode) (record { out = f.out; shape = f.shape; created = f.created; next = f.next; sound = sound_left h a ms f.sound });
              };
        }
    items_leave _ _ (passed n what {is} {js} none zero items) f e = passed_leaves n what is js none zero items f e
    items_leave _ _ (collected n access pool os {is} {js} count items) f e = collection_leaves n access pool os is js (map Names (members_of h n)) refl count items f e
    items_leave _ _ (single n t o {is} {js} count items) f e = object_leaves n t o is js (map Names (members_of h n)) refl count items f e
