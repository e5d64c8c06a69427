-- Each step of a finalization is followed.

use Rattle.std.proofs.Common.{◌≡◌, ℕ, ◌<◌, ◌≤◌, Bool, true, false, if◌then◌else◌, List, ◌∷◌, ◌++◌, length, Option, Some, None, refl, sym, ap, ◌∙◌, subst, arith}
use Rattle.std.specs.List.{slice_get, remove}
use Rattle.ada_program.specs.declared.program.TypeDefinition.{TypeDefinition}
use Rattle.ada_program.specs.Controlled.{shapes_of, operations_of, procedure_number}
use Rattle.ada_program.specs.ProgramForm.{BodyForm}
use Rattle.ada_parts.specs.declared.tasks.Component.{Component}
use Rattle.ada_parts.specs.declared.tasks.Direction.TheVariants.{WholeFirst}
use Rattle.ada_parts.specs.Task.{Task, performs, treats, treatment_of, opened, opened_if, taken, next as task_next}
use Rattle.ada_meaning.specs.declared.event.Cause.{Cause}
use Rattle.ada_meaning.specs.declared.event.Halt.TheVariants.{Erroneous}
use Rattle.ada_meaning.specs.declared.event.Why.TheVariants.{FinalizesTwice}
use Rattle.ada_meaning.specs.declared.state.Id.{Id}
use Rattle.ada_meaning.specs.declared.state.Value.{Value}
use Rattle.ada_meaning.specs.declared.state.Value.TheVariants.{Names}
use Rattle.ada_meaning.specs.declared.state.Mode.TheVariants.{Running}
use Rattle.ada_meaning.specs.Event.{Finalized, Quiet}
use Rattle.ada_meaning.specs.Frame.{ends}
use Rattle.ada_meaning.specs.Frame as frame
use Rattle.ada_meaning.specs.Heap.{PartState, Cell, Found, on_null, on_gone, on_other, finds}
use Rattle.ada_meaning.specs.State.{Master}
use Rattle.ada_meaning.specs.Step.{picked_task, member_at, halts, treating, treated_on, treats_next, performed_next, finalized_next, ended_next, part_reference}
use Rattle.ada_meaning.specs.Named.{Object, State, named, look, on_object, treated, finalized_part}
use Rattle.ada_meaning.proofs.Treatments.{member_within, are_table}
use Rattle.ada_storage.specs.State.{Forest, put_part, in_forest, in_forests}
use Rattle.ada_storage.specs.State as storage
use Rattle.ada_storage.specs.Step.{Choice, goes_on, enters, at, calls, dies, finalize_by, Ending, frame as ending_frame, cause_of, ends as ends_by, running_step}
use Rattle.ada_storage.specs.Step as does
use Rattle.ada_storage.specs.Following.{Goes}
use Rattle.ada_storage.proofs.Facts.{same_self}
use Rattle.ada_storage.proofs.Invariant.{Alive}
use Rattle.ada_following.specs.Forests.{Ends}
use Rattle.ada_following.specs.Reading.{event_seen, cause_seen}
use Rattle.ada_following.proofs.Heaps.{Heap}
use Rattle.ada_following.proofs.Frames.{Control, static, listing, Reads}
use Rattle.ada_following.proofs.Goings.{by_running, by_step, then_goes, goes_silent}
use Rattle.ada_following.proofs.Heads.{looked}
use Rattle.ada_following.proofs.Treating.{pick_ends, CallsEnd, call_ends}
use Rattle.ada_following.proofs.Creating.{Settles, facts_at}
use Rattle.ada_following.proofs.Treated.{AllFollow, with_all, picks_or_stuck, there_is, alive_is, turn_is, finalized_facts, operation_follows}
use Rattle.ada_following.proofs.Follows.{Facts, Follows}

-- The heap as it is, with what lives there; or once the value of a part of the object is finalized, which was left.
pub data DiesIn (h : Heap) (A : Alive) (o : Id) (left : List Forest) : Heap → Alive → Type 0 where
  as_before : DiesIn h A o left h A
  without_value :
      (p : ℕ) (object : Object) (q : PartState) → slice_get h o.0 ≡ Some object → slice_get object.cell.parts p ≡ Some q → 0 < in_forests p left
      → DiesIn h A o left (on_object (treated finalized_part p) h (Names o)) (put_part A o.0 p false)

-- A finalization at a leaving, by a Free, or for an assignment.
module _
    (types : List TypeDefinition) (bodies : List BodyForm) (x : State) (s : storage.State) (h : Heap) (ms : List Master) (o : Id) (cause : Cause) (k : Control) (ending : Ending)
    (at_end : (c : Choice) (fs : List Forest) (t : storage.State) → running_step c (ending_frame ending o.0 fs) t ≡ ends_by fs c ending o.0 t)
    (caused : cause_of ending ≡ cause_seen cause)
    (left : List Forest) (once : (q : ℕ) → in_forests q left ≤ 1) (is : s.control ≡ ending_frame ending o.0 left) (run : s.mode ≡ storage.running) (f : Facts types h ms x.next s)
    (settles_by :
    (g : Heap) (A : Alive) → DiesIn h s.alive o left g A → (tasks : List Task) (fs : List Forest) (r : storage.State) → Ends (shapes_of types) fs tasks
    → r.alive ≡ A → r.control ≡ ending_frame ending o.0 fs → r.mode ≡ storage.running → Facts types g ms x.next r → Settles types x.activations g ms x.next (treating (Names o) (ends cause) tasks k) r)
    (waits_by :
    (p : ℕ) (object : Object) (q : PartState) → slice_get h o.0 ≡ Some object → slice_get object.cell.parts p ≡ Some q → 0 < in_forests p left → (tasks : List Task) (fs : List Forest) → in_forests p fs ≡ 0 → Ends (shapes_of types) fs tasks
    → Reads types (static (on_object (treated finalized_part p) h (Names o))) true (listing (on_object (treated finalized_part p) h (Names o))) (put_part s.alive o.0 p false) x.activations
    (frame.Confines ∷ treating (Names o) (ends cause) tasks k) ms (ending_frame ending o.0 fs))
  where
    pick_finishes :
        (cs : List Component) (rest : List Task) → Ends (shapes_of types) left (treats cs ∷ rest) → (i : ℕ) → i < length cs
        → Follows types s Quiet (treated_on named (Names o) (ends cause) (taken (shapes_of types) WholeFirst (treats cs ∷ rest) i) (with_all x h ms Running k))
    pick_finishes cs rest e i lt =
        let c = there_is cs i lt in
        let all : taken (shapes_of types) WholeFirst (treats cs ∷ rest) i ≡ opened (shapes_of types) WholeFirst c.0.of c.0.first ++ (treatment_of (remove cs i) ++ rest) =
        ap (λ (d : Option Component). opened_if (shapes_of types) WholeFirst d ++ (treatment_of (remove cs i) ++ rest)) c.1 in
        let m = pick_ends (shapes_of types) (are_table types) ending o.0 at_end cs rest i c.0 c.1 s left is run once e in
        let t = at (ending_frame ending o.0 m.forests) s in
        let tasks = taken (shapes_of types) WholeFirst (treats cs ∷ rest) i in
        let z = settles_by h s.alive as_before tasks m.forests t (subst (Ends (shapes_of types) m.forests) (sym all) m.left) refl refl run (facts_at t.control f) in
        record { reached = t; to = z.state; goes = goes_silent s t m.steps; later = z.steps; arrived = z.arrived }

    -- The value of a part is finalized, and its operation is called, if it has one.
    part_finishes :
        (object : Object) (t p : ℕ) (q : PartState) (rest : List Task) → slice_get h o.0 ≡ Some object → slice_get object.cell.parts p ≡ Some q → q.alive ≡ true
        → Ends (shapes_of types) left (performs t p ∷ rest) → (operation : Option ℕ)
        → AllFollow types s (ended_next named bodies (Names o) p q (treating (Names o) (ends cause) rest k) operation (Finalized (Names o) p q.turn t q.number cause) (with_all x (on_object (treated finalized_part p) h (Names o)) ms Running k))
    part_finishes object t p q rest there part_there alive e operation = go operation
      where
        m : CallsEnd (shapes_of types) (are_table types) ending o.0 at_end s left p rest
        m = call_ends (shapes_of types) (are_table types) ending o.0 at_end s t p rest left is run e

        g : Heap
        g = on_object (treated finalized_part p) h (Names o)

        s1 : storage.State
        s1 = at (ending_frame ending o.0 (storage.tree p m.inside storage.none ∷ m.forests)) s

        K : storage.Control
        K = ending_frame ending o.0 (m.inside ∷ m.forests)

        facts : Facts types g ms x.next (dies o.0 p s)
        facts = finalized_facts types h ms x.next o p object q there part_there s f

        lives : s.alive o.0 p ≡ true
        lives = alive_is types h ms x.next o p object q there part_there s f ∙ alive

        some : 0 < in_forests p left
        some = let c = m.counts p in let self = same_self p in omega (arith, c, self)

        none_left : in_forests p (m.inside ∷ m.forests) ≡ 0
        none_left = let c = m.counts p in let self = same_self p in let le = once p in omega (arith, c, self, le)

        shown : event_seen (Finalized (Names o) p q.turn t q.number cause) ≡ storage.finalized (does.value_at o.0 p s1) (cause_of ending)
        shown =
            ap (λ (c : storage.Cause). storage.finalized (record { object = o.0; part = p; turn = q.turn }) c) (sym caused)
            ∙ ap (λ (j : ℕ). storage.finalized (record { object = o.0; part = p; turn = j }) (cause_of ending)) (sym (turn_is types h ms x.next o p object q there part_there s f))

        goes_by : (choice : Choice) (code : Bool) → ends_by (storage.tree p m.inside storage.none ∷ m.forests) choice ending o.0 s1 ≡ does.finalize code o.0 p (cause_of ending) K s1 → Goes (event_seen (Finalized (Names o) p q.turn t q.number cause)) s (does.performed code K (dies o.0 p s1))
        goes_by choice code now =
            subst (λ (ev : storage.Event). Goes ev s (does.performed code K (dies o.0 p s1))) (sym shown)
            (then_goes s s1 (does.performed code K (dies o.0 p s1)) _ m.steps
            (by_step s1 choice _ (does.performed code K (dies o.0 p s1))
            (by_running s1 s1.control choice _ _ refl run
            (at_end choice (storage.tree p m.inside storage.none ∷ m.forests) s1 ∙ now
            ∙ ap (λ (b : Bool). finalize_by b code o.0 p (cause_of ending) K s1) lives))))

        go : (operation : Option ℕ) → AllFollow types s (ended_next named bodies (Names o) p q (treating (Names o) (ends cause) rest k) operation (Finalized (Names o) p q.turn t q.number cause) (with_all x g ms Running k))
        go None =
            let r = at K (dies o.0 p s) in
            let z = settles_by g (put_part s.alive o.0 p false) (without_value p object q there part_there some) rest (m.inside ∷ m.forests) r m.left refl refl run (facts_at K facts) in
            record { reached = r; to = z.state; goes = goes_by goes_on false refl; later = z.steps; arrived = z.arrived }
        go (Some procedure) =
            operation_follows types bodies x s (dies o.0 p s1) g ms (frame.Confines ∷ treating (Names o) (ends cause) rest k) K (Finalized (Names o) p q.turn t q.number cause) (facts_at s1.control facts) run
            (goes_by enters true refl) (waits_by p object q there part_there some rest (m.inside ∷ m.forests) none_left m.left)
            procedure (slice_get bodies procedure) (part_reference named (Names o) p q) (with_all x g ms Running k) refl refl refl refl refl

    alive_finishes :
        (object : Object) (t p : ℕ) (q : PartState) (rest : List Task) → slice_get h o.0 ≡ Some object → slice_get object.cell.parts p ≡ Some q
        → Ends (shapes_of types) left (performs t p ∷ rest) → (operation : Option ℕ) (alive : Bool) → q.alive ≡ alive
        → AllFollow types s (if alive then ended_next named bodies (Names o) p q (treating (Names o) (ends cause) rest k) operation (Finalized (Names o) p q.turn t q.number cause) (with_all x (on_object (treated finalized_part p) h (Names o)) ms Running k) else halts (Erroneous FinalizesTwice))
    alive_finishes object t p q rest there part_there e operation true alive = part_finishes object t p q rest there part_there alive e operation
    alive_finishes object t p q rest there part_there e operation false alive = λ b. b

    one_finishes :
        (object : Object) (t p : ℕ) (rest : List Task) → slice_get h o.0 ≡ Some object
        → Ends (shapes_of types) left (performs t p ∷ rest) → (operation : Option ℕ) (found : Option PartState) → slice_get object.cell.parts p ≡ found
        → AllFollow types s (finalized_next named bodies (Names o) cause t p rest operation found (with_all x h ms Running k))
    one_finishes object t p rest there e operation None none = λ b. b
    one_finishes object t p rest there e operation (Some q) some = alive_finishes object t p q rest there some e operation q.alive refl

    performs_finish :
        (t p : ℕ) (rest : List Task) → Ends (shapes_of types) left (performs t p ∷ rest) → (found : Found (Cell Value)) → look h (Names o) ≡ found
        → AllFollow types s (performed_next named types bodies (Names o) (ends cause) t p rest found (with_all x h ms Running k))
    performs_finish t p rest e on_null found = λ b. b
    performs_finish t p rest e on_gone found = λ b. b
    performs_finish t p rest e on_other found = λ b. b
    performs_finish t p rest e (finds cell) found =
        let l = looked h (Names o) cell found in
        let same_id : o ≡ l.o = cc in
        one_finishes l.x t p rest (ap (λ (i : Id). slice_get h i.0) same_id ∙ l.there) e (procedure_number (operations_of types t).finalize) (slice_get cell.parts p) (ap (λ (c : Cell Value). slice_get c.parts p) l.lies)

    pub finishing_follows :
        (task : Task) (rest : List Task) → Ends (shapes_of types) left (task ∷ rest)
        → AllFollow types s (treats_next named types bodies (Names o) (ends cause) (task ∷ rest) (task_next (task ∷ rest)) (with_all x h ms Running k))
    finishing_follows (treats cs) rest e =
        picks_or_stuck (Follows types s) (length cs) (λ i. treated_on named (Names o) (ends cause) (picked_task (shapes_of types) WholeFirst (treats cs ∷ rest) i) (with_all x h ms Running k))
        (λ i lt. pick_finishes cs rest e (member_at WholeFirst (length cs) i) (member_within WholeFirst (length cs) i lt))
    finishing_follows (performs t p) rest e = performs_finish t p rest e (look h (Names o)) refl
