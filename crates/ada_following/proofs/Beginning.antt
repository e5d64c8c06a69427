-- Each step of an initialization, and of an adjustment, is followed.

use Rattle.std.proofs.Common.{◌≡◌, ℕ, ◌<◌, ◌≤◌, true, false, List, [], ◌∷◌, ◌++◌, length, Option, Some, None, refl, sym, ap, ◌∙◌, subst, arith}
use Rattle.std.specs.List.{slice_get, remove}
use Rattle.ada_program.specs.declared.program.TypeDefinition.{TypeDefinition}
use Rattle.ada_program.specs.Controlled.{shapes_of, operations_of}
use Rattle.ada_program.specs.ProgramForm.{BodyForm}
use Rattle.ada_parts.specs.declared.tasks.Component.{Component}
use Rattle.ada_parts.specs.declared.tasks.Direction.TheVariants.{PartsFirst}
use Rattle.ada_parts.specs.Part.{Part as PartOf, numbers}
use Rattle.ada_parts.specs.Task.{Task, performs, treats, treatment_of, opened, opened_if, taken, next as task_next}
use Rattle.ada_meaning.specs.declared.event.Birth.{Birth}
use Rattle.ada_meaning.specs.declared.event.Birth.TheVariants.{Adjustment}
use Rattle.ada_meaning.specs.declared.state.Id.{Id}
use Rattle.ada_meaning.specs.declared.state.Value.{Value}
use Rattle.ada_meaning.specs.declared.state.Value.TheVariants.{Names}
use Rattle.ada_meaning.specs.declared.state.Mode.TheVariants.{Running}
use Rattle.ada_meaning.specs.Event.{Born, Quiet}
use Rattle.ada_meaning.specs.Frame.{begins}
use Rattle.ada_meaning.specs.Frame as frame
use Rattle.ada_meaning.specs.Heap.{PartState, Cell, Found, on_null, on_gone, on_other, finds}
use Rattle.ada_meaning.specs.State.{Activation, Master, counted}
use Rattle.ada_meaning.specs.Step.{older, treating, treated_on, treats_next, performed_next, begun_next, born_next, awaited_next, beginning, part_reference}
use Rattle.ada_meaning.specs.Named.{Object, State, named, look, on_object, treated, born_part}
use Rattle.ada_meaning.proofs.Treatments.{are_table}
use Rattle.ada_storage.specs.State.{Forest, Job, put_part, in_list, in_forest, in_jobs, placed, same, bit}
use Rattle.ada_storage.specs.State as storage
use Rattle.ada_storage.specs.Step.{Choice, goes_on, enters, at, calls, lives_on, Beginning, frame_of, birth_of, begins as begins_by, at_creation, at_adjustment, running_step}
use Rattle.ada_storage.specs.Step as does
use Rattle.ada_storage.specs.Following.{Goes}
use Rattle.ada_storage.proofs.Facts.{same_self, bit_le, is_alive}
use Rattle.ada_storage.proofs.Invariant.{Alive, after, Fits}
use Rattle.ada_following.specs.Forests.{Begins}
use Rattle.ada_following.specs.Reading.{birth_seen, joins_seen}
use Rattle.ada_following.proofs.Heaps.{Heap, changes_treated, treated_there}
use Rattle.ada_following.proofs.Places.{Listing}
use Rattle.ada_following.proofs.Frames.{Control, static, listing, but, Joining, IsActing, IsCreated, made, adjusted, Reads, treats_behind, initializes, adjusts}
use Rattle.ada_following.proofs.Readings.{reads_alive}
use Rattle.ada_following.proofs.Stands.{codes, adjusting}
use Rattle.ada_following.proofs.Goings.{Holds, Silent, stands_still, then_silent, one_more, silent_holds, goes_holds, by_running, by_step, then_goes, goes_silent}
use Rattle.ada_following.proofs.Heads.{looked}
use Rattle.ada_following.proofs.Treating.{pick_begins, call_begins}
use Rattle.ada_following.proofs.Creating.{Settles, settles_made, creation_seen, facts_at}
use Rattle.ada_following.proofs.Treated.{AllFollow, with_all, picks_or_stuck, there_is, put_elsewhere, after_put, after_all, has_part, static_treated, listing_treated, turn_is, born_facts, operation_follows}
use Rattle.ada_following.proofs.Follows.{Facts, Follows, reads_same}
use Rattle.ada_following.proofs.Assigning.{adjusts_empty, adjusts_done}

-- The heap as it is, with what lives there; or once a part of the object has a value.
pub data BornIn (h : Heap) (A : Alive) (o : Id) (done : List PartOf) : Heap → Alive → List PartOf → Type 0 where
  as_before : BornIn h A o done h A done
  with_value :
      (t p number : ℕ) (object : Object) (q : PartState) → slice_get h o.0 ≡ Some object → slice_get object.cell.parts p ≡ Some q
      → BornIn h A o done (on_object (treated (born_part number) p) h (Names o)) (put_part A o.0 p true) (record { of = t; number = p } ∷ done)

-- Values of parts come to exist.
module _
    (types : List TypeDefinition) (bodies : List BodyForm) (x : State) (s : storage.State) (h : Heap) (ms : List Master) (o : Id) (by : Birth) (k : Control) (start : Beginning)
    (f : Facts types h ms x.next s) (run : s.mode ≡ storage.running) (holds : Holds s) (jobs : List Job) (done : List PartOf)
    (at_begin : (rest : List ℕ) (c : Choice) (js : List Job) (t : storage.State) → running_step c (frame_of start o.0 js rest) t ≡ begins_by js c start o.0 rest t)
    (born_by : birth_of start ≡ birth_seen by)
    (is : s.control ≡ frame_of start o.0 jobs (numbers done))
    (settles_by :
    (g : Heap) (A : Alive) (ps : List PartOf) → BornIn h s.alive o done g A ps → (js : List Job) (tasks : List Task) (r : storage.State) → r.alive ≡ A → r.control ≡ frame_of start o.0 js (numbers ps)
    → r.mode ≡ storage.running → Holds r → Begins (shapes_of types) js tasks → Facts types g ms x.next r → Settles types x.activations g ms x.next (treating (Names o) (begins by ps) tasks k) r)
    (waits_by :
    (of part : ℕ) (js : List Job) (rest : List Task) → (static h).holds o.0 part ≡ true → Begins (shapes_of types) js rest
    → Reads types (static h) true (listing h) s.alive x.activations (frame.Awaits (Names o) by done of part rest ∷ k) ms (frame_of start o.0 (storage.called part ∷ js) (numbers done)))
  where
    pick_begins_follows :
        (cs : List Component) (rest : List Task) → Begins (shapes_of types) jobs (treats cs ∷ rest) → ((q : ℕ) → in_jobs q jobs ≤ 1) → (i : ℕ) → i < length cs
        → Follows types s Quiet (treated_on named (Names o) (begins by done) (taken (shapes_of types) PartsFirst (treats cs ∷ rest) i) (with_all x h ms Running k))
    pick_begins_follows cs rest b once i lt =
        let c = there_is cs i lt in
        let all : taken (shapes_of types) PartsFirst (treats cs ∷ rest) i ≡ opened (shapes_of types) PartsFirst c.0.of c.0.first ++ (treatment_of (remove cs i) ++ rest) =
        ap (λ (d : Option Component). opened_if (shapes_of types) PartsFirst d ++ (treatment_of (remove cs i) ++ rest)) c.1 in
        let m = pick_begins (shapes_of types) (are_table types) start o.0 (numbers done) (at_begin (numbers done)) cs rest i c.0 c.1 s jobs is run once b in
        let r = at (frame_of start o.0 m.jobs (numbers done)) s in
        let tasks = taken (shapes_of types) PartsFirst (treats cs ∷ rest) i in
        let z = settles_by h s.alive done as_before m.jobs tasks r refl refl run (silent_holds s r holds m.steps) (subst (Begins (shapes_of types) m.jobs) (sym all) m.left) (facts_at r.control f) in
        record { reached = r; to = z.state; goes = goes_silent s r m.steps; later = z.steps; arrived = z.arrived }

    -- A part has its value.
    part_begins :
        (t p number : ℕ) (object : Object) (q : PartState) (rest : List Task) (born : ℕ) (j : Job) (js : List Job) → slice_get h o.0 ≡ Some object → slice_get object.cell.parts p ≡ Some q → Begins (shapes_of types) js rest
        → Silent s (at (frame_of start o.0 (j ∷ js) (numbers done)) s)
        → begins_by (j ∷ js) goes_on start o.0 (numbers done) (at (frame_of start o.0 (j ∷ js) (numbers done)) s)
        ≡ does.goes (storage.born (does.value_at o.0 p s) (birth_of start)) (at (frame_of start o.0 js (p ∷ numbers done)) (lives_on o.0 p s))
        → Follows types s (Born (Names o) p q.turn t number by)
        (record (treated_on named (Names o) (begins by (record { of = t; number = p } ∷ done)) rest (with_all x h ms Running k)) { born = born; heap = on_object (treated (born_part number) p) h (Names o) })
    part_begins t p number object q rest born j js there part_there b steps now =
        let s1 = at (frame_of start o.0 (j ∷ js) (numbers done)) s in
        let r = at (frame_of start o.0 js (p ∷ numbers done)) (lives_on o.0 p s) in
        let g = on_object (treated (born_part number) p) h (Names o) in
        let ps : List PartOf = record { of = t; number = p } ∷ done in
        let facts = born_facts types h ms x.next o p object q there part_there s f number in
        let turn = turn_is types h ms x.next o p object q there part_there s f in
        let goes : Goes (storage.born (does.value_at o.0 p s) (birth_of start)) s r =
        then_goes s s1 r _ steps (by_step s1 goes_on _ r (by_running s1 (frame_of start o.0 (j ∷ js) (numbers done)) goes_on _ r refl run (at_begin (numbers done) goes_on (j ∷ js) s1 ∙ now))) in
        let z = settles_by g (put_part s.alive o.0 p true) ps (with_value t p number object q there part_there) js rest r refl refl run (goes_holds s r _ holds goes) b (facts_at r.control facts) in
        record {
          reached = r;
          to = z.state;
          goes =
              subst (λ (d : storage.Birth). Goes (storage.born (record { object = o.0; part = p; turn = q.turn }) d) s r) born_by
              (subst (λ (i : ℕ). Goes (storage.born (record { object = o.0; part = p; turn = i }) (birth_of start)) s r) turn goes);
          later = z.steps;
          arrived = z.arrived;
        }

    born_follows :
        (t p : ℕ) (object : Object) (rest : List Task) (j : Job) (js : List Job) → slice_get h o.0 ≡ Some object → Begins (shapes_of types) js rest
        → Silent s (at (frame_of start o.0 (j ∷ js) (numbers done)) s)
        → begins_by (j ∷ js) goes_on start o.0 (numbers done) (at (frame_of start o.0 (j ∷ js) (numbers done)) s)
        ≡ does.goes (storage.born (does.value_at o.0 p s) (birth_of start)) (at (frame_of start o.0 js (p ∷ numbers done)) (lives_on o.0 p s))
        → (found : Option PartState) → slice_get object.cell.parts p ≡ found
        → AllFollow types s (born_next named (Names o) by done t p rest found (with_all x h ms Running k))
    born_follows t p object rest j js there b steps now None none = λ e. e
    born_follows t p object rest j js there b steps now (Some q) some = part_begins t p (counted x.born) object q rest (counted x.born) j js there some b steps now

    -- Its operation is called, if it has one.
    one_begins :
        (t p : ℕ) (object : Object) (rest : List Task) → slice_get h o.0 ≡ Some object → Begins (shapes_of types) jobs (performs t p ∷ rest) → (operation : Option ℕ) (found : Option PartState) → slice_get object.cell.parts p ≡ found
        → AllFollow types s (begun_next named bodies (Names o) by done t p rest operation found (with_all x h ms Running k))
    one_begins t p object rest there b operation None none = λ e. e
    one_begins t p object rest there b None (Some q) some =
        let m = call_begins (shapes_of types) (are_table types) start o.0 (numbers done) (at_begin (numbers done)) s t p rest jobs is run b in
        born_follows t p object rest (storage.call p) m.jobs there m.left m.steps refl (Some q) some
    one_begins t p object rest there b (Some procedure) (Some q) some =
        let m = call_begins (shapes_of types) (are_table types) start o.0 (numbers done) (at_begin (numbers done)) s t p rest jobs is run b in
        let s1 = at (frame_of start o.0 (storage.call p ∷ m.jobs) (numbers done)) s in
        let c = frame_of start o.0 (storage.called p ∷ m.jobs) (numbers done) in
        operation_follows types bodies x s s1 h ms (frame.Awaits (Names o) by done t p rest ∷ k) c Quiet (facts_at s1.control f) run
        (goes_silent s (calls c s1) (then_silent s s1 (calls c s1) m.steps (one_more s1 (calls c s1) (calls c s1) enters (by_running s1 s1.control enters storage.quiet (calls c s1) refl run (at_begin (numbers done) enters (storage.call p ∷ m.jobs) s1)) (stands_still (calls c s1) (calls c s1) refl))))
        (waits_by t p m.jobs rest (has_part types h ms x.next o p object q there some) m.left)
        procedure (slice_get bodies procedure) (part_reference named (Names o) p q) (with_all x h ms Running k) refl refl refl refl refl

    performs_begin :
        (t p : ℕ) (rest : List Task) → Begins (shapes_of types) jobs (performs t p ∷ rest) → (found : Found (Cell Value)) → look h (Names o) ≡ found
        → AllFollow types s (performed_next named types bodies (Names o) (begins by done) t p rest found (with_all x h ms Running k))
    performs_begin t p rest b on_null found = λ e. e
    performs_begin t p rest b on_gone found = λ e. e
    performs_begin t p rest b on_other found = λ e. e
    performs_begin t p rest b (finds cell) found =
        let l = looked h (Names o) cell found in
        let same_id : o ≡ l.o = cc in
        one_begins t p l.x rest (ap (λ (i : Id). slice_get h i.0) same_id ∙ l.there) b (beginning by (operations_of types t)) (slice_get cell.parts p) (ap (λ (c : Cell Value). slice_get c.parts p) l.lies)

    pub values_begin :
        (task : Task) (rest : List Task) → Begins (shapes_of types) jobs (task ∷ rest) → ((q : ℕ) → in_jobs q jobs ≤ 1)
        → AllFollow types s (treats_next named types bodies (Names o) (begins by done) (task ∷ rest) (task_next (task ∷ rest)) (with_all x h ms Running k))
    values_begin (treats cs) rest b once =
        picks_or_stuck (Follows types s) (length cs) (λ i. treated_on named (Names o) (begins by done) (taken (shapes_of types) PartsFirst (treats cs ∷ rest) i) (with_all x h ms Running k))
        (pick_begins_follows cs rest b once)
    values_begin (performs t p) rest b once = performs_begin t p rest b (look h (Names o)) refl

    -- The operation has come to its end.
    pub awaited_follows :
        (t p : ℕ) (rest : List Task) (js : List Job) → jobs ≡ storage.called p ∷ js → Begins (shapes_of types) js rest → (found : Found (Cell Value)) → look h (Names o) ≡ found
        → AllFollow types s (awaited_next named (Names o) by done t p rest found (with_all x h ms Running k))
    awaited_follows t p rest js are b on_null found = λ e. e
    awaited_follows t p rest js are b on_gone found = λ e. e
    awaited_follows t p rest js are b on_other found = λ e. e
    awaited_follows t p rest js are b (finds cell) found =
        let l = looked h (Names o) cell found in
        let same_id : o ≡ l.o = cc in
        let c = frame_of start o.0 (storage.called p ∷ js) (numbers done) in
        born_follows t p l.x rest (storage.called p) js (ap (λ (i : Id). slice_get h i.0) same_id ∙ l.there) b
        (stands_still s (at c s) (λ i. record s { control = (is ∙ ap (λ (ks : List Job). frame_of start o.0 ks (numbers done)) are) i }))
        refl (slice_get cell.parts p) (ap (λ (d : Cell Value). slice_get d.parts p) l.lies)

-- An object that is created.
module _
    (types : List TypeDefinition) (bodies : List BodyForm) (x : State) (s : storage.State) (h : Heap) (ms : List Master) (o : Id) (object : Object) (by : Birth) (k : Control) (joins : storage.Joins) (c : storage.Control)
    (created : IsCreated by) (there : slice_get h o.0 ≡ Some object) (is_joins : joins_seen (slice_get h o.0) ms ≡ joins) (joining : Joining (listing h) o.0 ms joins) (acting : IsActing c)
    (reads : Reads types (static h) false (but o.0 (listing h)) s.alive (older x.activations) k ms c) (f : Facts types h ms x.next s) (run : s.mode ≡ storage.running) (holds : Holds s) (jobs : List Job) (done : List PartOf)
    (is : s.control ≡ storage.initializes o.0 joins jobs (numbers done) c)
  where
    fits : Fits s.alive s.objects (storage.initializes o.0 joins jobs (numbers done) c)
    fits = subst (λ (d : storage.Control). Fits s.alive s.objects d) is holds.fits

    no_place : placed o.0 c ≡ 0
    no_place =
        let p = ap (placed o.0) is in
        let q = holds.places o.0 in
        let self = same_self o.0 in
        let one = bit_le (s.objects o.0).lives in
        omega (arith, p, q, self, one)

    once : (q : ℕ) → in_jobs q jobs ≤ 1
    once q = let a = fits.1 q in let b = fits.2.0 q in omega (arith, a, b)

    settles_by :
        (g : Heap) (A : Alive) (ps : List PartOf) → BornIn h s.alive o done g A ps → (js : List Job) (tasks : List Task) (r : storage.State) → r.alive ≡ A → r.control ≡ storage.initializes o.0 joins js (numbers ps) c
        → r.mode ≡ storage.running → Holds r → Begins (shapes_of types) js tasks → Facts types g ms x.next r → Settles types x.activations g ms x.next (treating (Names o) (begins by ps) tasks k) r
    settles_by _ _ _ as_before js tasks r alive is_r run_r holds_r b facts =
        settles_made types x.activations h x.next k ms o object by js done joins c tasks r created there is_joins joining acting no_place
        (subst (λ (A : Alive). Reads types (static h) false (but o.0 (listing h)) A (older x.activations) k ms c) (sym alive) reads) is_r run_r b facts
    settles_by _ _ _ (with_value t p number other q at_o part_there) js tasks r alive is_r run_r holds_r b facts =
        let g = on_object (treated (born_part number) p) h (Names o) in
        let u = changes_treated (born_part number) h o p other at_o in
        let e = static_treated types h ms x.next o p other q at_o part_there (born_part number) in
        let l = listing_treated types h ms x.next o p other q at_o part_there (born_part number) in
        settles_made types x.activations g x.next k ms o (treated (born_part number) p other) by js (record { of = t; number = p } ∷ done) joins c tasks r created (treated_there (born_part number) h o p other at_o)
        (u.joins o.0 ms ∙ is_joins) (subst (λ (L : Listing). Joining L o.0 ms joins) (sym l) joining) acting no_place
        (subst (λ (A : Alive). Reads types (static g) false (but o.0 (listing g)) A (older x.activations) k ms c) (sym alive)
        (reads_same e (ap (but o.0) l) (reads_alive s.objects o.0 (put_part s.alive o.0 p true) (put_elsewhere s.alive o.0 p true) fits.4 no_place reads)))
        is_r run_r b facts

    waits_by :
        (of part : ℕ) (js : List Job) (rest : List Task) → (static h).holds o.0 part ≡ true → Begins (shapes_of types) js rest
        → Reads types (static h) true (listing h) s.alive x.activations (frame.Awaits (Names o) by done of part rest ∷ k) ms (storage.initializes o.0 joins (storage.called part ∷ js) (numbers done) c)
    waits_by of part js rest has b =
        treats_behind (initializes o.0 joins (storage.called part ∷ js) (numbers done)) (made o by done of part rest js joins created has b is_joins joining) acting reads refl

    pub beginning_follows :
        (task : Task) (rest : List Task) → Begins (shapes_of types) jobs (task ∷ rest)
        → AllFollow types s (treats_next named types bodies (Names o) (begins by done) (task ∷ rest) (task_next (task ∷ rest)) (with_all x h ms Running k))
    beginning_follows task rest b =
        values_begin types bodies x s h ms o by k (at_creation joins c) f run holds jobs done (λ d c js t. refl) (sym (creation_seen by created)) is settles_by waits_by task rest b once

    pub made_follows :
        (t p : ℕ) (rest : List Task) (js : List Job) → jobs ≡ storage.called p ∷ js → Begins (shapes_of types) js rest
        → AllFollow types s (awaited_next named (Names o) by done t p rest (look h (Names o)) (with_all x h ms Running k))
    made_follows t p rest js are b =
        awaited_follows types bodies x s h ms o by k (at_creation joins c) f run holds jobs done (λ d c js t. refl) (sym (creation_seen by created)) is settles_by waits_by t p rest js are b (look h (Names o)) refl

-- A record that is adjusted.
module _ (types : List TypeDefinition) (acts : List (Activation Value)) (ms : List Master) (next : ℕ) (o : Id) (n : ℕ) (k : Control) (f : Forest) (c : storage.Control) (acting : IsActing c) where
  -- What is left of the adjustment.
  pub settles_adjusting :
      (g : Heap) (tasks : List Task) (jobs : List Job) (done : List PartOf) (r : storage.State)
      → Begins (shapes_of types) jobs tasks → r.control ≡ storage.adjusts o.0 f jobs (numbers done) c → r.mode ≡ storage.running → Holds r → Facts types g ms next r
      → Reads types (static g) false (listing g) (after r.alive o.0 f) (older acts) k ms c
      → Settles types acts g ms next (treating (Names o) (begins (Adjustment n) done) tasks k) r
  settles_adjusting g [] jobs done r b is run holds facts reads =
      let steps = adjusts_done (shapes_of types) (are_table types) o.0 f c jobs (numbers done) r is run b in
      record {
        state = at c r;
        steps = steps;
        arrived =
            record {
              control = c;
              moded = storage.running;
              is_control = refl;
              is_moded = run;
              stands = codes (subst (λ (A : Alive). Reads types (static g) false (listing g) A (older acts) k ms c) all_there reads);
              facts = facts_at c facts;
            };
      }
    where
      done_holds : Holds (at (storage.adjusts o.0 f [] (numbers done) c) r)
      done_holds = silent_holds r (at (storage.adjusts o.0 f [] (numbers done) c) r) holds (adjusts_empty (shapes_of types) (are_table types) o.0 f c jobs (numbers done) r is run b)

      all_there : after r.alive o.0 f ≡ r.alive
      all_there = λ i x q. after_all r.alive o.0 f (λ q some. all_alive q some) x q i
        where
          all_alive : (q : ℕ) → 0 < in_forest q f → r.alive o.0 q ≡ true
          all_alive q some =
              let a = done_holds.fits.0 q some in
              let b = done_holds.fits.1 q in
              let one = bit_le (r.alive o.0 q) in
              is_alive (r.alive o.0 q) 0 (omega (arith, a, b, some, one))
  settles_adjusting g (task ∷ tasks) jobs done r b is run holds facts reads = record {
    state = r;
    steps = stands_still r r refl;
    arrived =
        record {
          control = storage.adjusts o.0 f jobs (numbers done) c;
          moded = storage.running;
          is_control = is;
          is_moded = run;
          stands = adjusting o n done task tasks f jobs b acting reads;
          facts = facts;
        };
  }

module _
    (types : List TypeDefinition) (bodies : List BodyForm) (x : State) (s : storage.State) (h : Heap) (ms : List Master) (o : Id) (n : ℕ) (k : Control) (F : Forest) (c : storage.Control) (acting : IsActing c)
    (reads : Reads types (static h) false (listing h) (after s.alive o.0 F) (older x.activations) k ms c) (f : Facts types h ms x.next s) (run : s.mode ≡ storage.running) (holds : Holds s) (jobs : List Job) (done : List PartOf)
    (is : s.control ≡ storage.adjusts o.0 F jobs (numbers done) c)
  where
    fits_adjusted : Fits s.alive s.objects (storage.adjusts o.0 F jobs (numbers done) c)
    fits_adjusted = subst (λ (d : storage.Control). Fits s.alive s.objects d) is holds.fits

    once_adjusted : (q : ℕ) → in_jobs q jobs ≤ 1
    once_adjusted q = let a = fits_adjusted.1 q in let b = fits_adjusted.2 q in omega (arith, a, b)

    settles_by_adjusting :
        (g : Heap) (A : Alive) (ps : List PartOf) → BornIn h s.alive o done g A ps → (js : List Job) (tasks : List Task) (r : storage.State) → r.alive ≡ A → r.control ≡ storage.adjusts o.0 F js (numbers ps) c
        → r.mode ≡ storage.running → Holds r → Begins (shapes_of types) js tasks → Facts types g ms x.next r → Settles types x.activations g ms x.next (treating (Names o) (begins (Adjustment n) ps) tasks k) r
    settles_by_adjusting _ _ _ as_before js tasks r alive is_r run_r holds_r b facts =
        settles_adjusting types x.activations ms x.next o n k F c acting h tasks js done r b is_r run_r holds_r facts
        (subst (λ (A : Alive). Reads types (static h) false (listing h) (after A o.0 F) (older x.activations) k ms c) (sym alive) reads)
    settles_by_adjusting _ _ _ (with_value t p number other q at_o part_there) js tasks r alive is_r run_r holds_r b facts =
        let g = on_object (treated (born_part number) p) h (Names o) in
        let e = static_treated types h ms x.next o p other q at_o part_there (born_part number) in
        let l = listing_treated types h ms x.next o p other q at_o part_there (born_part number) in
        let there = subst (λ (d : storage.Control). Fits r.alive r.objects d) is_r holds_r.fits in
        let some : 0 < in_forest p F = (let a = there.1 p in let self = same_self p in omega (arith, a, self)) in
        settles_adjusting types x.activations ms x.next o n k F c acting g tasks js (record { of = t; number = p } ∷ done) r b is_r run_r holds_r facts
        (reads_same e l
        (subst (λ (A : Alive). Reads types (static h) false (listing h) A (older x.activations) k ms c) (sym (ap (λ (A : Alive). after A o.0 F) alive ∙ after_put s.alive o.0 p true F some)) reads))

    waits_by_adjusting :
        (of part : ℕ) (js : List Job) (rest : List Task) → (static h).holds o.0 part ≡ true → Begins (shapes_of types) js rest
        → Reads types (static h) true (listing h) s.alive x.activations (frame.Awaits (Names o) (Adjustment n) done of part rest ∷ k) ms (storage.adjusts o.0 F (storage.called part ∷ js) (numbers done) c)
    waits_by_adjusting of part js rest has b = treats_behind (adjusts o.0 F (storage.called part ∷ js) (numbers done)) (adjusted o n done of part rest F js has b) acting reads refl

    pub adjusting_follows :
        (task : Task) (rest : List Task) → Begins (shapes_of types) jobs (task ∷ rest)
        → AllFollow types s (treats_next named types bodies (Names o) (begins (Adjustment n) done) (task ∷ rest) (task_next (task ∷ rest)) (with_all x h ms Running k))
    adjusting_follows task rest b =
        values_begin types bodies x s h ms o (Adjustment n) k (at_adjustment F c) f run holds jobs done (λ d c js q. refl) refl is settles_by_adjusting waits_by_adjusting task rest b once_adjusted

    pub adjusted_follows :
        (t p : ℕ) (rest : List Task) (js : List Job) → jobs ≡ storage.called p ∷ js → Begins (shapes_of types) js rest
        → AllFollow types s (awaited_next named (Names o) (Adjustment n) done t p rest (look h (Names o)) (with_all x h ms Running k))
    adjusted_follows t p rest js are b =
        awaited_follows types bodies x s h ms o (Adjustment n) k (at_adjustment F c) f run holds jobs done (λ d c js q. refl) refl is settles_by_adjusting waits_by_adjusting t p rest js are b (look h (Names o)) refl
