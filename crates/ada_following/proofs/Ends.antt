-- Each step of an object that is taken at a leaving, freed or undone: its values are finalized, it ceases to exist, and then its words go back.

use Rattle.std.proofs.Common.{◌≡◌, ℕ, suc, ◌<◌, ◌≤◌, Bool, true, false, if◌then◌else◌, List, [], ◌∷◌, Option, Some, None, refl, sym, ap, ◌∙◌, subst, arith}
use Rattle.std.specs.List.{slice_get}
use Rattle.ada_program.specs.declared.program.TypeDefinition.{TypeDefinition}
use Rattle.ada_program.specs.Controlled.{shapes_of}
use Rattle.ada_program.specs.ProgramForm.{BodyForm}
use Rattle.ada_parts.specs.Task.{Task, next as task_next}
use Rattle.ada_meaning.specs.declared.state.Id.{Id}
use Rattle.ada_meaning.specs.declared.state.Value.{Value}
use Rattle.ada_meaning.specs.declared.state.Value.TheVariants.{Names}
use Rattle.ada_meaning.specs.declared.state.Mode.{Mode}
use Rattle.ada_meaning.specs.declared.state.Mode.TheVariants.{Running}
use Rattle.ada_meaning.specs.declared.state.Stage.TheVariants.{Gone}
use Rattle.ada_meaning.specs.declared.event.Cause.{Cause}
use Rattle.ada_meaning.specs.declared.event.Cause.TheVariants.{Leaving, Freeing}
use Rattle.ada_meaning.specs.declared.event.Halt.TheVariants.{Erroneous}
use Rattle.ada_meaning.specs.declared.event.Why.TheVariants.{GivesElsewhere}
use Rattle.ada_meaning.specs.Event.{Back, Quiet}
use Rattle.ada_meaning.specs.Frame.{ends}
use Rattle.ada_meaning.specs.Frame as frame
use Rattle.ada_meaning.specs.Heap.{PartState, Cell, Found, on_null, on_gone, on_other, finds}
use Rattle.ada_meaning.specs.State.{Master}
use Rattle.ada_meaning.specs.Step.{older, halts, treating, treats_next, end_next, back_next, told_back, given_back, same_pool}
use Rattle.ada_meaning.specs.Named.{Object, State, named, look, on_object, treated, finished, returned, finalized_part}
use Rattle.ada_meaning.proofs.Treatments.{are_table}
use Rattle.ada_storage.specs.State.{Forest, put_part, in_forests, in_items, placed, bit}
use Rattle.ada_storage.specs.State as storage
use Rattle.ada_storage.specs.Step.{at, at_leaving, at_free, gone}
use Rattle.ada_storage.proofs.Facts.{same_self, bit_le}
use Rattle.ada_storage.proofs.Invariant.{Alive, Fits}
use Rattle.ada_following.specs.Forests.{Ends}
use Rattle.ada_following.specs.Reading.{mode_seen}
use Rattle.ada_following.proofs.Heaps.{Heap, unlists_finished, returns_returned}
use Rattle.ada_following.proofs.Places.{Listing, Items}
use Rattle.ada_following.proofs.Frames.{Control, static, listing, taking, giving_up, IsActing, Reads, treats_behind, leaves_behind, frees}
use Rattle.ada_following.proofs.Frames as frames
use Rattle.ada_following.proofs.Stands.{codes, leaving, taken, taken_gone, freed, freed_gone}
use Rattle.ada_following.proofs.Goings.{Holds, stands_still, goes_silent, taken_back, freed_back}
use Rattle.ada_following.proofs.Heads.{looked}
use Rattle.ada_following.proofs.Treating.{done_ends}
use Rattle.ada_following.proofs.Treated.{AllFollow, with_all, has_part, static_treated, listing_treated}
use Rattle.ada_following.proofs.Creating.{Settles, facts_at}
use Rattle.ada_following.proofs.Finishing.{DiesIn, as_before, without_value, finishing_follows}
use Rattle.ada_following.proofs.Passing.{now_gone, drops_listed, items_away, items_returned, reads_unlisted, reads_returned, reads_dies, facts_returned, facts_unlisted}
use Rattle.ada_following.proofs.Follows.{Facts, Follows}

-- What goes back is told, or not.
module _ (types : List TypeDefinition) (s : storage.State) (o : Id) (cause : Cause) (y : State) (each : (access number : ℕ) (from subpool : Option ℕ) → Follows types s (Back (Names o) access number from subpool cause) (record y { heap = on_object returned y.heap (Names o) })) where
  told_follows :
      (own : Option ℕ) (access number : ℕ) (from subpool : Option ℕ)
      → AllFollow types s (told_back named own (Names o) (Back (Names o) access number from subpool cause) (record y { heap = on_object returned y.heap (Names o) }))
  told_follows None access number from subpool = each access number from subpool
  told_follows (Some p) access number from subpool = each access number from subpool

  given_follows : (fits : Bool) (cell : Cell Value) → AllFollow types s (if fits then given_back named (Names o) cause cell y else halts (Erroneous GivesElsewhere))
  given_follows true cell = told_follows cell.home.pool cell.access cell.number cell.home.pool cell.home.subpool
  given_follows false cell = λ e. e

  pub back_follows : (pool : Option ℕ) (found : Found (Cell Value)) → AllFollow types s (back_next named (Names o) cause pool found y)
  back_follows pool on_null = λ e. e
  back_follows pool on_gone = λ e. e
  back_follows pool on_other = λ e. e
  back_follows pool (finds cell) = given_follows (same_pool pool cell.home.pool) cell

-- An object ceases to exist, if it is found.
pub end_follows :
    (types : List TypeDefinition) (s : storage.State) (h : Heap) (o : Id) (y : State)
    → ((x : Object) → slice_get h o.0 ≡ Some x → Follows types s Quiet (record y { heap = on_object finished h (Names o) })) → y.heap ≡ h
    → AllFollow types s (end_next named (Names o) (look h (Names o)) y)
end_follows types s h o y each heap = go (look h (Names o)) refl
  where
    go : (found : Found (Cell Value)) → look h (Names o) ≡ found → AllFollow types s (end_next named (Names o) found y)
    go on_null found = λ e. e
    go on_gone found = λ e. e
    go on_other found = λ e. e
    go (finds cell) found =
        let l = looked h (Names o) cell found in
        let same_id : o ≡ l.o = cc in
        subst (λ (g : Heap). Follows types s Quiet (record y { heap = on_object finished g (Names o) })) (sym heap)
        (each l.x (ap (λ (i : Id). slice_get h i.0) same_id ∙ l.there))

-- At a leaving.
module _
    (types : List TypeDefinition) (bodies : List BodyForm) (x : State) (s : storage.State) (h : Heap) (o : Id) (i : ℕ) (pool : Option ℕ) (mode : Mode) (left : List Forest) (k : Control) (m : Master) (ms : List Master)
    (js : List storage.Item) (c : storage.Control) (items : Items (listing h) m.items js) (reads : Reads types (static h) false (listing h) s.alive (older x.activations) k ms c)
    (is : s.control ≡ storage.finalizes (record { number = suc m.number; items = js }) i o.0 left (mode_seen mode) c) (run : s.mode ≡ storage.running) (f : Facts types h (m ∷ ms) x.next s) (holds : Holds s)
  where
    M : storage.Master
    M = record { number = suc m.number; items = js }

    abbrev after_taking : Control
    after_taking = taking o m.number i pool mode k

    fits : Fits s.alive s.objects (storage.finalizes (record { number = suc m.number; items = js }) i o.0 left (mode_seen mode) c)
    fits = subst (λ (d : storage.Control). Fits s.alive s.objects d) is holds.fits

    once : (q : ℕ) → in_forests q left ≤ 1
    once q = let b = fits.0.0 q in let one = bit_le (s.alive o.0 q) in omega (arith, b, one)

    no_item : in_items o.0 js ≡ 0
    no_item = let p = ap (placed o.0) is in let q = holds.places o.0 in let self = same_self o.0 in let one = bit_le (s.objects o.0).lives in omega (arith, p, q, self, one)

    no_place : placed o.0 c ≡ 0
    no_place = let p = ap (placed o.0) is in let q = holds.places o.0 in let self = same_self o.0 in let one = bit_le (s.objects o.0).lives in omega (arith, p, q, self, one)

    settles_by :
        (g : Heap) (A : Alive) → DiesIn h s.alive o left g A → (tasks : List Task) (fs : List Forest) (r : storage.State) → Ends (shapes_of types) fs tasks
        → r.alive ≡ A → r.control ≡ storage.finalizes (record { number = suc m.number; items = js }) i o.0 fs (mode_seen mode) c → r.mode ≡ storage.running → Facts types g (m ∷ ms) x.next r
        → Settles types x.activations g (m ∷ ms) x.next (treating (Names o) (ends (Leaving m.number i)) tasks after_taking) r
    settles_by _ _ as_before tasks fs r e alive is_r run_r facts = record {
      state = r;
      steps = stands_still r r refl;
      arrived =
          record {
            control = storage.finalizes (record { number = suc m.number; items = js }) i o.0 fs (mode_seen mode) c;
            moded = storage.running;
            is_control = is_r;
            is_moded = run_r;
            stands = taken o i pool mode tasks fs m e items (subst (λ (A : Alive). Reads types (static h) false (listing h) A (older x.activations) k ms c) (sym alive) reads) refl;
            facts = facts;
          };
    }
    settles_by _ _ (without_value p object q there part_there some) tasks fs r e alive is_r run_r facts =
        let g = on_object (treated finalized_part p) h (Names o) in
        record {
          state = r;
          steps = stands_still r r refl;
          arrived =
              record {
                control = storage.finalizes (record { number = suc m.number; items = js }) i o.0 fs (mode_seen mode) c;
                moded = storage.running;
                is_control = is_r;
                is_moded = run_r;
                stands =
                    taken o i pool mode tasks fs m e (subst (λ (L : Listing). Items L m.items js) (sym (listing_treated types h ms x.next o p object q there part_there finalized_part)) items)
                    (subst (λ (A : Alive). Reads types (static g) false (listing g) A (older x.activations) k ms c) (sym alive) (reads_dies s.objects h x.next o p object q there part_there fits.2.2 no_place reads)) refl;
                facts = facts;
              };
        }

    waits_by :
        (p : ℕ) (object : Object) (q : PartState) → slice_get h o.0 ≡ Some object → slice_get object.cell.parts p ≡ Some q → 0 < in_forests p left → (tasks : List Task) (fs : List Forest) → in_forests p fs ≡ 0 → Ends (shapes_of types) fs tasks
        → Reads types (static (on_object (treated finalized_part p) h (Names o))) true (listing (on_object (treated finalized_part p) h (Names o))) (put_part s.alive o.0 p false) x.activations
        (frame.Confines ∷ treating (Names o) (ends (Leaving m.number i)) tasks after_taking) (m ∷ ms) (storage.finalizes (record { number = suc m.number; items = js }) i o.0 fs (mode_seen mode) c)
    waits_by p object q there part_there some tasks fs none e =
        leaves_behind o i pool mode tasks fs p m
        (ap (λ (S : frames.Static). S.holds o.0 p) (static_treated types h ms x.next o p object q there part_there finalized_part) ∙ has_part types h ms x.next o p object q there part_there) none e
        (subst (λ (L : Listing). Items L m.items js) (sym (listing_treated types h ms x.next o p object q there part_there finalized_part)) items)
        (reads_dies s.objects h x.next o p object q there part_there fits.2.2 no_place reads) refl

    -- Its values are finalized.
    pub taken_finishes :
        (task : Task) (rest : List Task) → Ends (shapes_of types) left (task ∷ rest)
        → AllFollow types s (treats_next named types bodies (Names o) (ends (Leaving m.number i)) (task ∷ rest) (task_next (task ∷ rest)) (with_all x h (m ∷ ms) Running after_taking))
    taken_finishes task rest e =
        finishing_follows types bodies x s h (m ∷ ms) o (Leaving m.number i) after_taking (at_leaving (record { number = suc m.number; items = js }) i (mode_seen mode) c) (λ c fs t. refl) refl left once is run f settles_by waits_by task rest e

    -- It ceases to exist.
    pub taken_ends : Ends (shapes_of types) left [] → AllFollow types s (end_next named (Names o) (look h (Names o)) (with_all x h (m ∷ ms) Running (frame.GivesBack (Names o) (Leaving m.number i) pool ∷ frame.Leaves mode ∷ k)))
    taken_ends e = end_follows types s h o _ each refl
      where
        each : (object : Object) → slice_get h o.0 ≡ Some object → Follows types s Quiet (with_all x (on_object finished h (Names o)) (m ∷ ms) Running (frame.GivesBack (Names o) (Leaving m.number i) pool ∷ frame.Leaves mode ∷ k))
        each object there =
            let g = on_object finished h (Names o) in
            let u = unlists_finished h o object there in
            let t = at (storage.finalizes (record { number = suc m.number; items = js }) i o.0 [] (mode_seen mode) c) s in
            record {
              reached = t;
              to = t;
              goes = goes_silent s t (done_ends (shapes_of types) (are_table types) (at_leaving (record { number = suc m.number; items = js }) i (mode_seen mode) c) o.0 (λ c fs t. refl) s left is run e);
              later = stands_still t t refl;
              arrived =
                  record {
                    control = t.control;
                    moded = storage.running;
                    is_control = refl;
                    is_moded = run;
                    stands =
                        taken_gone o (finished object) i pool mode m (now_gone h o object there) refl (items_away o.0 (listing g) (drops_listed o.0 h g u) no_item items) (reads_unlisted o.0 h g u no_place reads);
                    facts = facts_at t.control (facts_unlisted types (m ∷ ms) x.next s h g o.0 u f);
                  };
            }

    -- Its words go back.
    pub taken_goes_back : (object : Object) → slice_get h o.0 ≡ Some object → object.stage ≡ Gone → left ≡ [] → (found : Found (Cell Value)) → AllFollow types s (back_next named (Names o) (Leaving m.number i) pool found (with_all x h (m ∷ ms) Running (frame.Leaves mode ∷ k)))
    taken_goes_back object there is_gone none found = back_follows types s o (Leaving m.number i) (with_all x h (m ∷ ms) Running (frame.Leaves mode ∷ k)) each pool found
      where
        each : (access number : ℕ) (from subpool : Option ℕ) → Follows types s (Back (Names o) access number from subpool (Leaving m.number i)) (with_all x (on_object returned h (Names o)) (m ∷ ms) Running (frame.Leaves mode ∷ k))
        each access number from subpool =
            let g = on_object returned h (Names o) in
            let u = returns_returned h o object there is_gone f.sound.fine in
            let t = at (storage.leaves (record { number = suc m.number; items = js }) (mode_seen mode) c) (gone o.0 s) in
            record {
              reached = t;
              to = t;
              goes =
                  taken_back s (record { number = suc m.number; items = js }) i o.0 (mode_seen mode) c
                  (is ∙ ap (λ (fs : List Forest). storage.finalizes (record { number = suc m.number; items = js }) i o.0 fs (mode_seen mode) c) none) run;
              later = stands_still t t refl;
              arrived =
                  record {
                    control = t.control;
                    moded = storage.running;
                    is_control = refl;
                    is_moded = run;
                    stands = leaving mode m (items_returned o.0 h g u items) (reads_returned o.0 h g u reads);
                    facts = facts_at t.control (facts_returned types (m ∷ ms) x.next s h g o.0 u f);
                  };
            }

-- By a Free.
module _
    (types : List TypeDefinition) (bodies : List BodyForm) (x : State) (s : storage.State) (h : Heap) (o : Id) (n : ℕ) (pool : Option ℕ) (left : List Forest) (k : Control) (ms : List Master)
    (c : storage.Control) (acting : IsActing c) (reads : Reads types (static h) false (listing h) s.alive (older x.activations) k ms c)
    (is : s.control ≡ storage.frees (suc n) o.0 left c) (run : s.mode ≡ storage.running) (f : Facts types h ms x.next s) (holds : Holds s)
  where
    abbrev after_freeing : Control
    after_freeing = giving_up o n pool k

    fits_freed : Fits s.alive s.objects (storage.frees (suc n) o.0 left c)
    fits_freed = subst (λ (d : storage.Control). Fits s.alive s.objects d) is holds.fits

    once_freed : (q : ℕ) → in_forests q left ≤ 1
    once_freed q = let b = fits_freed.0.0 q in let one = bit_le (s.alive o.0 q) in omega (arith, b, one)

    no_place_freed : placed o.0 c ≡ 0
    no_place_freed = let p = ap (placed o.0) is in let q = holds.places o.0 in let self = same_self o.0 in let one = bit_le (s.objects o.0).lives in omega (arith, p, q, self, one)

    settles_freed :
        (g : Heap) (A : Alive) → DiesIn h s.alive o left g A → (tasks : List Task) (fs : List Forest) (r : storage.State) → Ends (shapes_of types) fs tasks
        → r.alive ≡ A → r.control ≡ storage.frees (suc n) o.0 fs c → r.mode ≡ storage.running → Facts types g ms x.next r
        → Settles types x.activations g ms x.next (treating (Names o) (ends (Freeing n)) tasks after_freeing) r
    settles_freed _ _ as_before tasks fs r e alive is_r run_r facts = record {
      state = r;
      steps = stands_still r r refl;
      arrived =
          record {
            control = storage.frees (suc n) o.0 fs c;
            moded = storage.running;
            is_control = is_r;
            is_moded = run_r;
            stands = freed o n pool tasks fs e acting (subst (λ (A : Alive). Reads types (static h) false (listing h) A (older x.activations) k ms c) (sym alive) reads) refl;
            facts = facts;
          };
    }
    settles_freed _ _ (without_value p object q there part_there some) tasks fs r e alive is_r run_r facts =
        let g = on_object (treated finalized_part p) h (Names o) in
        record {
          state = r;
          steps = stands_still r r refl;
          arrived =
              record {
                control = storage.frees (suc n) o.0 fs c;
                moded = storage.running;
                is_control = is_r;
                is_moded = run_r;
                stands =
                    freed o n pool tasks fs e acting
                    (subst (λ (A : Alive). Reads types (static g) false (listing g) A (older x.activations) k ms c) (sym alive) (reads_dies s.objects h x.next o p object q there part_there fits_freed.2 no_place_freed reads)) refl;
                facts = facts;
              };
        }

    waits_freed :
        (p : ℕ) (object : Object) (q : PartState) → slice_get h o.0 ≡ Some object → slice_get object.cell.parts p ≡ Some q → 0 < in_forests p left → (tasks : List Task) (fs : List Forest) → in_forests p fs ≡ 0 → Ends (shapes_of types) fs tasks
        → Reads types (static (on_object (treated finalized_part p) h (Names o))) true (listing (on_object (treated finalized_part p) h (Names o))) (put_part s.alive o.0 p false) x.activations
        (frame.Confines ∷ treating (Names o) (ends (Freeing n)) tasks after_freeing) ms (storage.frees (suc n) o.0 fs c)
    waits_freed p object q there part_there some tasks fs none e =
        treats_behind (frees (suc n) o.0 fs)
        (frames.freed o n pool tasks fs p (ap (λ (S : frames.Static). S.holds o.0 p) (static_treated types h ms x.next o p object q there part_there finalized_part) ∙ has_part types h ms x.next o p object q there part_there) none e refl)
        acting (reads_dies s.objects h x.next o p object q there part_there fits_freed.2 no_place_freed reads) refl

    pub freed_finishes :
        (task : Task) (rest : List Task) → Ends (shapes_of types) left (task ∷ rest)
        → AllFollow types s (treats_next named types bodies (Names o) (ends (Freeing n)) (task ∷ rest) (task_next (task ∷ rest)) (with_all x h ms Running after_freeing))
    freed_finishes task rest e =
        finishing_follows types bodies x s h ms o (Freeing n) after_freeing (at_free (suc n) c) (λ c fs t. refl) refl left once_freed is run f settles_freed waits_freed task rest e

    pub freed_ends : Ends (shapes_of types) left [] → AllFollow types s (end_next named (Names o) (look h (Names o)) (with_all x h ms Running (frame.GivesBack (Names o) (Freeing n) pool ∷ k)))
    freed_ends e = end_follows types s h o _ each refl
      where
        each : (object : Object) → slice_get h o.0 ≡ Some object → Follows types s Quiet (with_all x (on_object finished h (Names o)) ms Running (frame.GivesBack (Names o) (Freeing n) pool ∷ k))
        each object there =
            let g = on_object finished h (Names o) in
            let u = unlists_finished h o object there in
            let t = at (storage.frees (suc n) o.0 [] c) s in
            record {
              reached = t;
              to = t;
              goes = goes_silent s t (done_ends (shapes_of types) (are_table types) (at_free (suc n) c) o.0 (λ c fs t. refl) s left is run e);
              later = stands_still t t refl;
              arrived =
                  record {
                    control = t.control;
                    moded = storage.running;
                    is_control = refl;
                    is_moded = run;
                    stands = freed_gone o (finished object) n pool (now_gone h o object there) refl acting (reads_unlisted o.0 h g u no_place_freed reads);
                    facts = facts_at t.control (facts_unlisted types ms x.next s h g o.0 u f);
                  };
            }

    pub freed_goes_back : (object : Object) → slice_get h o.0 ≡ Some object → object.stage ≡ Gone → left ≡ [] → (found : Found (Cell Value)) → AllFollow types s (back_next named (Names o) (Freeing n) pool found (with_all x h ms Running k))
    freed_goes_back object there is_gone none found = back_follows types s o (Freeing n) (with_all x h ms Running k) each pool found
      where
        each : (access number : ℕ) (from subpool : Option ℕ) → Follows types s (Back (Names o) access number from subpool (Freeing n)) (with_all x (on_object returned h (Names o)) ms Running k)
        each access number from subpool =
            let g = on_object returned h (Names o) in
            let u = returns_returned h o object there is_gone f.sound.fine in
            let t = at c (gone o.0 s) in
            record {
              reached = t;
              to = t;
              goes = freed_back s (suc n) o.0 c (is ∙ ap (λ (fs : List Forest). storage.frees (suc n) o.0 fs c) none) run;
              later = stands_still t t refl;
              arrived =
                  record {
                    control = c;
                    moded = storage.running;
                    is_control = refl;
                    is_moded = run;
                    stands = codes (reads_returned o.0 h g u reads);
                    facts = facts_at c (facts_returned types ms x.next s h g o.0 u f);
                  };
            }
