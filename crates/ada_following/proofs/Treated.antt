-- A part of an object comes to have a value, or its value is finalized: what changes of a state, and what is read of it behind.

use Rattle.std.proofs.Common.{◌≡◌, ℕ, zero, suc, ◌+◌, ◌<◌, Bool, true, false, cond, if◌then◌else◌, List, [], ◌∷◌, length, Option, Some, None, refl, sym, ap, ◌∙◌, inl, inr, subst, arith}
use Rattle.std.specs.Prelude.{◌==◌, is_some}
use Rattle.std.specs.List.{slice_get}
use Rattle.std.proofs.lemmas.Bool.Decides.{eqb_tells}
use Rattle.ada_program.specs.declared.program.TypeDefinition.{TypeDefinition}
use Rattle.ada_program.specs.ProgramForm.{BodyForm}
use Rattle.ada_parts.specs.declared.tasks.Component.{Component}
use Rattle.ada_meaning.specs.declared.event.Halt.TheVariants.{Stuck}
use Rattle.ada_meaning.specs.declared.state.Id.{Id}
use Rattle.ada_meaning.specs.declared.state.Value.{Value}
use Rattle.ada_meaning.specs.declared.state.Value.TheVariants.{Names}
use Rattle.ada_meaning.specs.declared.state.Mode.{Mode}
use Rattle.ada_meaning.specs.declared.state.Mode.TheVariants.{Running}
use Rattle.ada_meaning.specs.Event.{Quiet}
use Rattle.ada_meaning.specs.Frame as frame
use Rattle.ada_meaning.specs.Heap.{PartState}
use Rattle.ada_meaning.specs.State.{Master}
use Rattle.ada_meaning.specs.Step.{halts, picks, operating, operation_next}
use Rattle.ada_meaning.specs.Named.{Object, State, Next, named, on_object, treated, born_part, finalized_part}
use Rattle.ada_meaning.specs.Run.{Event}
use Rattle.ada_storage.specs.State.{Forest, put_part, in_forest}
use Rattle.ada_storage.specs.State as storage
use Rattle.ada_storage.specs.Step.{calls, lives_on, dies}
use Rattle.ada_storage.specs.Following.{Goes}
use Rattle.ada_storage.proofs.Facts.{part_other, part_there}
use Rattle.ada_storage.proofs.Invariant.{Alive, alive_by, after}
use Rattle.ada_following.specs.Reading.{event_seen, part_of, is_alive, turn_of}
use Rattle.ada_following.proofs.Heaps.{Heap, changes_treated}
use Rattle.ada_following.proofs.PartTables.{same_forest, part_changes, part_same}
use Rattle.ada_following.proofs.Places.{no_items}
use Rattle.ada_following.proofs.Sound.{sound_changes, sound_entered}
use Rattle.ada_following.proofs.Frames.{Control, static, listing, Reads, enters, operates}
use Rattle.ada_following.proofs.Readings.{SameBut}
use Rattle.ada_following.proofs.Stands.{codes}
use Rattle.ada_following.proofs.Deeds.{Does}
use Rattle.ada_following.proofs.Goings.{stands_still}
use Rattle.ada_following.proofs.Follows.{Facts, Follows, same_static, same_listing}

-- What may come next is followed.
abbrev pub AllFollow : List TypeDefinition → storage.State → Next → Type 0
AllFollow types s coming = Does (Follows types s) coming

-- A state of a program by its parts.
abbrev pub with_all : State → Heap → List Master → Mode → Control → State
with_all x h ms mode k = record x { heap = h; masters = ms; mode = mode; control = k }

-- Where there is nothing to pick the run is stuck.
pub picks_or_stuck : (D : Event → State → Type 0) (count : ℕ) (f : ℕ → State) → ((i : ℕ) → i < count → D Quiet (f i)) → Does D (if count == 0 then halts Stuck else picks count f)
picks_or_stuck D count f each = go (count == 0)
  where
    go : (b : Bool) → Does D (if b then halts Stuck else picks count f)
    go true = λ e. e
    go false = each

pub there_is : (cs : List Component) (i : ℕ) → i < length cs → (c : Component) × (slice_get cs i ≡ Some c)
there_is [] i lt = absurd (omega (arith, lt))
there_is (c ∷ cs) zero lt = (c, refl)
there_is (c ∷ cs) (suc i) lt = there_is cs i (omega (arith, lt))

-- Tables of parts.
pub put_elsewhere : (A : Alive) (o p : ℕ) (b : Bool) → SameBut o A (put_part A o p b)
put_elsewhere A o p b = λ x q ne. part_there A o p b x q ne

alive_some : (n : ℕ) (a b : Bool) → 0 < n → alive_by n a ≡ alive_by n b
alive_some zero a b lt = absurd (omega (arith, lt))
alive_some (suc n) a b lt = refl

-- What an assignment will have with values does not depend on whether it has one now.
pub after_put : (A : Alive) (o p : ℕ) (b : Bool) (f : Forest) → 0 < in_forest p f → after (put_part A o p b) o f ≡ after A o f
after_put A o p b f some = λ i x q. at_one x q i
  where
    inside : (q : ℕ) → alive_by (in_forest q f) (put_part A o p b o q) ≡ alive_by (in_forest q f) (A o q)
    inside q = elim (eqb_tells q p) [
      | inl e ↦ alive_some (in_forest q f) (put_part A o p b o q) (A o q) (let d = ap (λ (r : ℕ). in_forest r f) e.1 in omega (arith, some, d))
      | inr e ↦ ap (alive_by (in_forest q f)) (part_other A o p b o q e.1)
    ]

    at_one : (x q : ℕ) → after (put_part A o p b) o f x q ≡ after A o f x q
    at_one x q = elim (eqb_tells x o) [
      | inl e ↦ (ap (λ (c : Bool). cond c (alive_by (in_forest q f) (put_part A o p b x q)) (put_part A o p b x q)) e.0
          ∙ ap (λ (y : ℕ). alive_by (in_forest q f) (put_part A o p b y q)) e.1 ∙ inside q ∙ ap (λ (y : ℕ). alive_by (in_forest q f) (A y q)) (sym e.1)
          ∙ sym (ap (λ (c : Bool). cond c (alive_by (in_forest q f) (A x q)) (A x q)) e.0))
      | inr e ↦ (ap (λ (c : Bool). cond c (alive_by (in_forest q f) (put_part A o p b x q)) (put_part A o p b x q)) e.0 ∙ part_there A o p b x q e.1
          ∙ sym (ap (λ (c : Bool). cond c (alive_by (in_forest q f) (A x q)) (A x q)) e.0))
    ]

-- Where all of them have one nothing changes.
all_by : (n : ℕ) (a : Bool) → (0 < n → a ≡ true) → alive_by n a ≡ a
all_by zero a e = refl
all_by (suc n) a e = sym (e (omega arith))

pub after_all : (A : Alive) (o : ℕ) (f : Forest) → ((q : ℕ) → 0 < in_forest q f → A o q ≡ true) → (x q : ℕ) → after A o f x q ≡ A x q
after_all A o f all x q = elim (eqb_tells x o) [
  | inl e ↦ (ap (λ (c : Bool). cond c (alive_by (in_forest q f) (A x q)) (A x q)) e.0 ∙ all_by (in_forest q f) (A x q) (λ some. ap (λ (y : ℕ). A y q) e.1 ∙ all q some))
  | inr e ↦ ap (λ (c : Bool). cond c (alive_by (in_forest q f) (A x q)) (A x q)) e.0
]

-- A part of an object that changes, for storage.
module _ (types : List TypeDefinition) (h : Heap) (ms : List Master) (n : ℕ) (o : Id) (p : ℕ) (x : Object) (q : PartState) (is : slice_get h o.0 ≡ Some x) (part_there : slice_get x.cell.parts p ≡ Some q) where
  -- it is there
  pub has_part : (static h).holds o.0 p ≡ true
  has_part = ap (λ (found : Option Object). is_some (part_of found p)) is ∙ ap is_some part_there

  module _ (change : PartState → PartState) where
    pub static_treated : static (on_object (treated change p) h (Names o)) ≡ static h
    static_treated = same_static h (on_object (treated change p) h (Names o)) (λ y r. part_same is_some change h o p x q is part_there refl y r) (changes_treated change h o p x is).joins

    pub listing_treated : listing (on_object (treated change p) h (Names o)) ≡ listing h
    listing_treated = same_listing h (on_object (treated change p) h (Names o)) (changes_treated change h o p x is).listed

  module _ (s : storage.State) (f : Facts types h ms n s) where
    -- how often it had values
    pub turn_is : s.turn o.0 p ≡ q.turn
    turn_is = f.shape.turn o.0 p ∙ ap (λ (found : Option Object). turn_of (part_of found p)) is ∙ ap turn_of part_there

    pub alive_is : s.alive o.0 p ≡ q.alive
    alive_is = f.shape.alive o.0 p ∙ ap (λ (found : Option Object). is_alive (part_of found p)) is ∙ ap is_alive part_there

    pub born_facts : (number : ℕ) → Facts types (on_object (treated (born_part number) p) h (Names o)) ms n (lives_on o.0 p s)
    born_facts number =
        let g = on_object (treated (born_part number) p) h (Names o) in
        let u = changes_treated (born_part number) h o p x is in
        record {
          out = λ y. f.out y ∙ sym (u.out y);
          shape = record {
            shape = λ y. f.shape.shape y ∙ sym (same_forest types (slice_get g y) (slice_get h y) (u.access y));
            alive = λ y r. ap (λ (A : ℕ → ℕ → Bool). put_part A o.0 p true y r) (λ i z w. f.shape.alive z w i) ∙ sym (part_changes is_alive (born_part number) h o p x q is part_there y r);
            turn = λ y r. f.shape.turn y r ∙ sym (part_same turn_of (born_part number) h o p x q is part_there refl y r);
          };
          created = f.created ∙ sym u.count;
          next = f.next;
          sound = sound_changes h g o.0 ms u f.sound;
        }

    pub finalized_facts : Facts types (on_object (treated finalized_part p) h (Names o)) ms n (dies o.0 p s)
    finalized_facts =
        let g = on_object (treated finalized_part p) h (Names o) in
        let u = changes_treated finalized_part h o p x is in
        let t = turn_is in
        let more : suc (s.turn o.0 p) ≡ q.turn + 1 = omega (arith, t) in
        record {
          out = λ y. f.out y ∙ sym (u.out y);
          shape = record {
            shape = λ y. f.shape.shape y ∙ sym (same_forest types (slice_get g y) (slice_get h y) (u.access y));
            alive = λ y r. ap (λ (A : ℕ → ℕ → Bool). put_part A o.0 p false y r) (λ i z w. f.shape.alive z w i) ∙ sym (part_changes is_alive finalized_part h o p x q is part_there y r);
            turn = λ y r.
                ap (λ (j : ℕ). put_part s.turn o.0 p j y r) more
                ∙ ap (λ (A : ℕ → ℕ → ℕ). put_part A o.0 p (q.turn + 1) y r) (λ i z w. f.shape.turn z w i)
                ∙ sym (part_changes turn_of finalized_part h o p x q is part_there y r);
          };
          created = f.created ∙ sym u.count;
          next = f.next;
          sound = sound_changes h g o.0 ms u f.sound;
        }

-- The body of an operation is entered.
module _ (types : List TypeDefinition) (bodies : List BodyForm) (x : State) (s r : storage.State) (g : Heap) (ms : List Master) (behind : Control) (c : storage.Control) (e : Event) (f : Facts types g ms x.next r)
    (run : r.mode ≡ storage.running) (goes : Goes (event_seen e) s (calls c r)) (reads : Reads types (static g) true (listing g) r.alive x.activations behind ms c)
  where
    entered_facts : (b : BodyForm) → Facts types g (record { number = x.next; items = [] } ∷ ms) (x.next + 1) (calls c r)
    entered_facts b = let number = f.next in record {
      out = f.out;
      shape = record { shape = f.shape.shape; alive = f.shape.alive; turn = f.shape.turn };
      created = f.created;
      next = omega (arith, number);
      sound = sound_entered g x.next ms f.sound;
    }

    pub operation_follows : (procedure : ℕ) (b : Option BodyForm) (reference : Value) (y : State) → y.activations ≡ x.activations → y.heap ≡ g → y.masters ≡ ms → y.next ≡ x.next → y.mode ≡ Running → AllFollow types s (operation_next named procedure b reference behind e y)
    operation_follows procedure None reference y acts heap masters next mode = λ d. d
    operation_follows procedure (Some b) reference y acts heap masters next mode =
        let z = record y { activations = x.activations; heap = g; masters = ms; next = x.next; mode = Running } in
        let same_state : y ≡ z = λ i. record y { activations = acts i; heap = heap i; masters = masters i; next = next i; mode = mode i } in
        subst (λ (w : State). Follows types s e (operating named procedure b reference behind w)) (sym same_state)
        (record {
          reached = calls c r;
          to = calls c r;
          goes = goes;
          later = stands_still (calls c r) (calls c r) refl;
          arrived =
              record {
                control = storage.acts (record { number = suc x.next; items = [] }) c;
                moded = storage.running;
                is_control = ap (λ (i : ℕ). storage.acts (record { number = i; items = [] }) c) f.next;
                is_moded = run;
                stands = codes (enters (frame.Elaborates b.declarations b.statements b.handlers) (record { number = x.next; items = [] }) refl no_items (operates reads));
                facts = entered_facts b;
              };
        })
