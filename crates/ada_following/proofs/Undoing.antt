-- An Initialize raises an exception: each step is followed by which its object is undone.

use Rattle.std.proofs.Common.{◌≡◌, ℕ, suc, ◌+◌, Bool, true, false, cond, if◌then◌else◌, List, [], ◌∷◌, Option, Some, None, refl, sym, ap, ◌∙◌, inl, inr, subst, arith}
use Rattle.std.proofs.lemmas.Bool.Decides.{eqb_tells}
use Rattle.std.specs.List.{slice_get}
use Rattle.ada_program.specs.declared.program.TypeDefinition.{TypeDefinition}
use Rattle.ada_program.specs.declared.program.Exception.{Exception}
use Rattle.ada_program.specs.Controlled.{operations_of, procedure_number}
use Rattle.ada_program.specs.ProgramForm.{BodyForm}
use Rattle.ada_parts.specs.Part.{Part as PartOf, numbers}
use Rattle.ada_meaning.specs.declared.state.Id.{Id}
use Rattle.ada_meaning.specs.declared.state.Value.{Value}
use Rattle.ada_meaning.specs.declared.state.Value.TheVariants.{Names}
use Rattle.ada_meaning.specs.declared.state.Mode.TheVariants.{Running, Raising}
use Rattle.ada_meaning.specs.declared.state.Stage.TheVariants.{Gone}
use Rattle.ada_meaning.specs.declared.event.Cause.TheVariants.{Undoing}
use Rattle.ada_meaning.specs.declared.event.Halt.TheVariants.{Erroneous}
use Rattle.ada_meaning.specs.declared.event.Why.TheVariants.{FinalizesTwice}
use Rattle.ada_meaning.specs.Event.{Back, Finalized, Quiet}
use Rattle.ada_meaning.specs.Frame.{ends}
use Rattle.ada_meaning.specs.Frame as frame
use Rattle.ada_meaning.specs.Heap.{PartState, Cell, Found, on_null, on_gone, on_other, finds}
use Rattle.ada_meaning.specs.State.{Activation, Master}
use Rattle.ada_meaning.specs.Step.{older, with_operands, halts, treating, performed_next, finalized_next, ended_next, part_reference, end_next, back_next, undo_next, undone as undone_state}
use Rattle.ada_meaning.specs.Named.{Object, State, named, look, on_object, treated, parted, finished, returned, finalized_part}
use Rattle.ada_storage.specs.State.{in_list, placed, bit, without}
use Rattle.ada_storage.specs.State as storage
use Rattle.ada_storage.specs.Step.{Choice, goes_on, enters, at, calls, dies, finalize_by, gone, rolls_back}
use Rattle.ada_storage.specs.Step as does
use Rattle.ada_storage.specs.Following.{Goes}
use Rattle.ada_storage.proofs.Facts.{same_self, bit_le}
use Rattle.ada_storage.proofs.Invariant.{Fits}
use Rattle.ada_following.specs.Reading.{event_seen, listed_in}
use Rattle.ada_following.proofs.Heaps.{Heap, Unlists, unlists_parted, unlists_finished, returns_returned}
use Rattle.ada_following.proofs.Places.{in_without, in_others}
use Rattle.ada_following.proofs.Frames.{Control, Static, static, listing, but, undoing, performing, IsActing, Reads, treats_behind, undoes}
use Rattle.ada_following.proofs.Frames as frames
use Rattle.ada_following.proofs.Stands.{undone, undone_gone, resuming}
use Rattle.ada_following.proofs.Goings.{Holds, stands_still, by_running, by_raising, by_step, by_none}
use Rattle.ada_following.proofs.Heads.{looked}
use Rattle.ada_following.proofs.Creating.{facts_at}
use Rattle.ada_following.proofs.Coding.{reads_callers, facts_moded}
use Rattle.ada_following.proofs.Treated.{AllFollow, with_all, has_part, static_treated, alive_is, turn_is, finalized_facts, operation_follows}
use Rattle.ada_following.proofs.Ends.{back_follows, end_follows}
use Rattle.ada_following.proofs.Passing.{now_gone, static_unlists, reads_unlisted, reads_returned, reads_dies, facts_returned, facts_unlisted}
use Rattle.ada_following.proofs.Follows.{Facts, Follows, reads_same}

-- What pending forms had computed is dropped.
older_dropped : (acts : List (Activation Value)) → older (with_operands [] acts) ≡ older acts
older_dropped [] = refl
older_dropped (a ∷ acts) = refl

-- An object that leaves its collection.
listing_parted : (h : Heap) (o : Id) (x : Object) → slice_get h o.0 ≡ Some x → listing (on_object parted h (Names o)) ≡ but o.0 (listing h)
listing_parted h o x there = λ k i y. at_one i y k
  where
    u : Unlists o.0 h (on_object parted h (Names o))
    u = unlists_parted h o x there

    at_one : (i y : ℕ) → listing (on_object parted h (Names o)) i y ≡ but o.0 (listing h) i y
    at_one i y = elim (eqb_tells y o.0) [
      | inl e ↦ (ap (in_list y) (u.listed i) ∙ ap (λ (z : ℕ). in_list z (without o.0 (listed_in h i))) e.1 ∙ in_without o.0 (listed_in h i) ∙ sym (ap (λ (b : Bool). cond b 0 (listing h i y)) e.0))
      | inr e ↦ (ap (in_list y) (u.listed i) ∙ in_others o.0 y (listed_in h i) e.1 ∙ sym (ap (λ (b : Bool). cond b 0 (listing h i y)) e.0))
    ]

module _
    (types : List TypeDefinition) (bodies : List BodyForm) (x : State) (s : storage.State) (h : Heap) (o : Id) (n : ℕ) (pool : Option ℕ) (e : Exception) (k : Control) (ms : List Master)
    (c : storage.Control) (acting : IsActing c) (reads : Reads types (static h) false (listing h) s.alive (older x.activations) k ms c)
    (run : s.mode ≡ storage.running) (f : Facts types h ms x.next s) (holds : Holds s)
  where
    abbrev after_undoing : Control
    after_undoing = undoing o n pool e k

    -- The value of one part is finalized, and those of others are left.
    module _ (p : PartOf) (done : List PartOf) (is : s.control ≡ storage.undoes (suc n) o.0 (p.number ∷ numbers done) c) where
      fits : Fits s.alive s.objects (storage.undoes (suc n) o.0 (p.number ∷ numbers done) c)
      fits = subst (λ (d : storage.Control). Fits s.alive s.objects d) is holds.fits

      no_place : placed o.0 c ≡ 0
      no_place = let q = ap (placed o.0) is in let r = holds.places o.0 in let self = same_self o.0 in let one = bit_le (s.objects o.0).lives in omega (arith, q, r, self, one)

      abbrev K : storage.Control
      K = storage.undoes (suc n) o.0 (numbers done) c

      module _ (object : Object) (q : PartState) (there : slice_get h o.0 ≡ Some object) (part_there : slice_get object.cell.parts p.number ≡ Some q) where
        abbrev g : Heap
        g = on_object (treated finalized_part p.number) h (Names o)

        none_left : in_list p.number (numbers done) ≡ 0
        none_left = let a = fits.0.0 p.number in let self = same_self p.number in let one = bit_le (s.alive o.0 p.number) in omega (arith, a, self, one)

        facts : Facts types g ms x.next (dies o.0 p.number s)
        facts = finalized_facts types h ms x.next o p.number object q there part_there s f

        dying : Reads types (static g) false (listing g) (dies o.0 p.number s).alive (older x.activations) k ms c
        dying = reads_dies s.objects h x.next o p.number object q there part_there fits.2 no_place reads

        shown : event_seen (Finalized (Names o) p.number q.turn p.of q.number (Undoing n)) ≡ storage.finalized (does.value_at o.0 p.number s) (storage.undoing (suc n))
        shown = ap (λ (j : ℕ). storage.finalized (record { object = o.0; part = p.number; turn = j }) (storage.undoing (suc n))) (sym (turn_is types h ms x.next o p.number object q there part_there s f))

        goes_by :
            (choice : Choice) (code : Bool) → q.alive ≡ true → rolls_back (p.number ∷ numbers done) choice (suc n) o.0 c s ≡ does.finalize code o.0 p.number (storage.undoing (suc n)) K s
            → Goes (event_seen (Finalized (Names o) p.number q.turn p.of q.number (Undoing n))) s (does.performed code K (dies o.0 p.number s))
        goes_by choice code alive now =
            subst (λ (ev : storage.Event). Goes ev s (does.performed code K (dies o.0 p.number s))) (sym shown)
            (by_step s choice _ (does.performed code K (dies o.0 p.number s))
            (by_running s (storage.undoes (suc n) o.0 (p.number ∷ numbers done) c) choice _ _ is run
            (now ∙ ap (λ (b : Bool). finalize_by b code o.0 p.number (storage.undoing (suc n)) K s) (alive_is types h ms x.next o p.number object q there part_there s f ∙ alive))))

        operation_ends :
            (operation : Option ℕ) → q.alive ≡ true
            → AllFollow types s (ended_next named bodies (Names o) p.number q (treating (Names o) (ends (Undoing n)) (performing done) after_undoing) operation (Finalized (Names o) p.number q.turn p.of q.number (Undoing n)) (with_all x g ms Running after_undoing))
        operation_ends None alive =
            let r = at K (dies o.0 p.number s) in
            record {
              reached = r;
              to = r;
              goes = goes_by goes_on false alive refl;
              later = stands_still r r refl;
              arrived = record { control = K; moded = storage.running; is_control = refl; is_moded = run; stands = undone o n pool e done acting dying refl; facts = facts_at K facts };
            }
        operation_ends (Some procedure) alive =
            operation_follows types bodies x s (dies o.0 p.number s) g ms (frame.Confines ∷ treating (Names o) (ends (Undoing n)) (performing done) after_undoing) K (Finalized (Names o) p.number q.turn p.of q.number (Undoing n)) facts run
            (goes_by enters true alive refl)
            (treats_behind (undoes (suc n) o.0 (numbers done))
            (frames.undone o n pool e done p.number (ap (λ (S : Static). S.holds o.0 p.number) (static_treated types h ms x.next o p.number object q there part_there finalized_part) ∙ has_part types h ms x.next o p.number object q there part_there) none_left refl)
            acting dying refl)
            procedure (slice_get bodies procedure) (part_reference named (Names o) p.number q) (with_all x g ms Running after_undoing) refl refl refl refl refl

        alive_ends :
            (operation : Option ℕ) (alive : Bool) → q.alive ≡ alive
            → AllFollow types s (if alive then ended_next named bodies (Names o) p.number q (treating (Names o) (ends (Undoing n)) (performing done) after_undoing) operation (Finalized (Names o) p.number q.turn p.of q.number (Undoing n)) (with_all x g ms Running after_undoing) else halts (Erroneous FinalizesTwice))
        alive_ends operation true alive = operation_ends operation alive
        alive_ends operation false alive = λ b. b

      one_ends :
          (object : Object) → slice_get h o.0 ≡ Some object → (operation : Option ℕ) (found : Option PartState) → slice_get object.cell.parts p.number ≡ found
          → AllFollow types s (finalized_next named bodies (Names o) (Undoing n) p.of p.number (performing done) operation found (with_all x h ms Running after_undoing))
      one_ends object there operation None none = λ b. b
      one_ends object there operation (Some q) some = alive_ends object q there some operation q.alive refl

      performed_ends :
          (found : Found (Cell Value)) → look h (Names o) ≡ found → AllFollow types s (performed_next named types bodies (Names o) (ends (Undoing n)) p.of p.number (performing done) found (with_all x h ms Running after_undoing))
      performed_ends on_null found = λ b. b
      performed_ends on_gone found = λ b. b
      performed_ends on_other found = λ b. b
      performed_ends (finds cell) found =
          let l = looked h (Names o) cell found in
          let same_id : o ≡ l.o = cc in
          one_ends l.x (ap (λ (i : Id). slice_get h i.0) same_id ∙ l.there) (procedure_number (operations_of types p.of).finalize) (slice_get cell.parts p.number) (ap (λ (d : Cell Value). slice_get d.parts p.number) l.lies)

      pub undone_finishes : AllFollow types s (performed_next named types bodies (Names o) (ends (Undoing n)) p.of p.number (performing done) (look h (Names o)) (with_all x h ms Running after_undoing))
      undone_finishes = performed_ends (look h (Names o)) refl

    -- It ceases to exist, and its words go back.
    module _ (is : s.control ≡ storage.undoes (suc n) o.0 [] c) where
      nowhere : placed o.0 c ≡ 0
      nowhere = let q = ap (placed o.0) is in let r = holds.places o.0 in let self = same_self o.0 in let one = bit_le (s.objects o.0).lives in omega (arith, q, r, self, one)

      pub undone_ends : AllFollow types s (end_next named (Names o) (look h (Names o)) (with_all x h ms Running (frame.GivesBack (Names o) (Undoing n) pool ∷ frame.Resumes (Raising e) ∷ k)))
      undone_ends = end_follows types s h o _ each refl
        where
          each : (object : Object) → slice_get h o.0 ≡ Some object → Follows types s Quiet (with_all x (on_object finished h (Names o)) ms Running (frame.GivesBack (Names o) (Undoing n) pool ∷ frame.Resumes (Raising e) ∷ k))
          each object there =
              let g2 = on_object finished h (Names o) in
              let u = unlists_finished h o object there in
              record {
                reached = s;
                to = s;
                goes = by_none s s refl;
                later = stands_still s s refl;
                arrived =
                    record {
                      control = storage.undoes (suc n) o.0 [] c;
                      moded = storage.running;
                      is_control = is;
                      is_moded = run;
                      stands = undone_gone o (finished object) n pool e (now_gone h o object there) refl acting (reads_unlisted o.0 h g2 u nowhere reads);
                      facts = facts_unlisted types ms x.next s h g2 o.0 u f;
                    };
              }

      pub undone_goes_back : (object : Object) → slice_get h o.0 ≡ Some object → object.stage ≡ Gone → (found : Found (Cell Value)) → AllFollow types s (back_next named (Names o) (Undoing n) pool found (with_all x h ms Running (frame.Resumes (Raising e) ∷ k)))
      undone_goes_back object there is_gone found = back_follows types s o (Undoing n) (with_all x h ms Running (frame.Resumes (Raising e) ∷ k)) each pool found
        where
          each : (access number : ℕ) (from subpool : Option ℕ) → Follows types s (Back (Names o) access number from subpool (Undoing n)) (with_all x (on_object returned h (Names o)) ms Running (frame.Resumes (Raising e) ∷ k))
          each access number from subpool =
              let g2 = on_object returned h (Names o) in
              let u = returns_returned h o object there is_gone f.sound.fine in
              let t = record (gone o.0 s) { control = c; mode = storage.raising } in
              record {
                reached = t;
                to = t;
                goes = by_step s goes_on (storage.back o.0 (storage.undoing (suc n))) t (by_running s (storage.undoes (suc n) o.0 [] c) goes_on _ t is run refl);
                later = stands_still t t refl;
                arrived =
                    record {
                      control = c;
                      moded = storage.raising;
                      is_control = refl;
                      is_moded = refl;
                      stands = resuming e (reads_returned o.0 h g2 u reads);
                      facts = facts_moded c storage.raising (facts_returned types ms x.next s h g2 o.0 u f);
                    };
              }

-- The exception comes to the initialization.
module _
    (types : List TypeDefinition) (x : State) (s : storage.State) (h : Heap) (o : Id) (e : Exception) (done : List PartOf) (jobs : List storage.Job) (joins : storage.Joins) (k : Control) (ms : List Master)
    (c : storage.Control) (acting : IsActing c) (reads : Reads types (static h) false (but o.0 (listing h)) s.alive (older x.activations) k ms c)
    (is : s.control ≡ storage.initializes o.0 joins jobs (numbers done) c) (raised : s.mode ≡ storage.raising) (f : Facts types h ms x.next s)
  where
    -- the reading without the object is that of the heap in which it is listed no more
    one_undone : (object : Object) (cell : Cell Value) (y : State) → slice_get h o.0 ≡ Some object → object.cell ≡ cell → y.activations ≡ x.activations → y.heap ≡ h → y.masters ≡ ms → y.next ≡ x.next → y.control ≡ k → Follows types s Quiet (undone_state named e (Names o) done cell y)
    one_undone object cell y there lies acts heap masters next control =
        let z = record y { activations = x.activations; heap = h; masters = ms; next = x.next; control = k } in
        let same_state : y ≡ z = λ i. record y { activations = acts i; heap = heap i; masters = masters i; next = next i; control = control i } in
        let g = on_object parted h (Names o) in
        let u = unlists_parted h o object there in
        let t = record s { control = storage.undoes s.next o.0 (numbers done) c; mode = storage.running; next = suc s.next } in
        let number = f.next in
        subst (λ (w : State). Follows types s Quiet (undone_state named e (Names o) done cell w)) (sym same_state)
        (record {
          reached = t;
          to = t;
          goes = by_step s goes_on storage.quiet t (by_raising s (storage.initializes o.0 joins jobs (numbers done) c) goes_on storage.quiet t is raised refl);
          later = stands_still t t refl;
          arrived =
              record {
                control = storage.undoes (suc x.next) o.0 (numbers done) c;
                moded = storage.running;
                is_control = ap (λ (i : ℕ). storage.undoes i o.0 (numbers done) c) f.next;
                is_moded = refl;
                stands =
                    undone o x.next cell.home.pool e done acting
                    (reads_callers (older_dropped x.activations) (reads_same (static_unlists o.0 h g u) (listing_parted h o object there) reads)) refl;
                facts = next_facts g (facts_unlisted types ms x.next s h g o.0 u f);
              };
        })
      where
        next_facts : (g : Heap) → Facts types g ms x.next s → Facts types g ms (x.next + 1) (record s { control = storage.undoes s.next o.0 (numbers done) c; mode = storage.running; next = suc s.next })
        next_facts g d = let number = d.next in record { out = d.out; shape = record { shape = d.shape.shape; alive = d.shape.alive; turn = d.shape.turn }; created = d.created; next = omega (arith, number); sound = d.sound }

    pub undo_follows : (y : State) → y.activations ≡ x.activations → y.heap ≡ h → y.masters ≡ ms → y.next ≡ x.next → y.control ≡ k → (found : Found (Cell Value)) → look h (Names o) ≡ found → AllFollow types s (undo_next named e (Names o) done found y)
    undo_follows y acts heap masters next control on_null found = λ b. b
    undo_follows y acts heap masters next control on_gone found = λ b. b
    undo_follows y acts heap masters next control on_other found = λ b. b
    undo_follows y acts heap masters next control (finds cell) found =
        let l = looked h (Names o) cell found in
        let same_id : o ≡ l.o = cc in
        one_undone l.x cell y (ap (λ (i : Id). slice_get h i.0) same_id ∙ l.there) l.lies acts heap masters next control
