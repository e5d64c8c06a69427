-- What holds of every state of a run: each part of an object that exists has a value, or one thing that is being done waits for it; what is being done keeps
-- the order of parts and wholes; and code stands in front of that which its operations were called for.

use Rattle.std.proofs.Common.{◌≡◌, ◌≢◌, ℕ, zero, suc, ◌+◌, ◌<◌, ◌≤◌, Bool, true, false, List, [], ◌∷◌, length, map, Option, Some, None, refl, sym, ap, ◌∙◌, inl, inr, subst, arith}
use Rattle.std.specs.List.{slice_get, slice_set, Contains}
use Rattle.ada_program.specs.declared.program.TypeDefinition.{TypeDefinition}
use Rattle.ada_program.specs.declared.program.Exception.{Exception}
use Rattle.ada_program.specs.Form.{RecordPathForm}
use Rattle.ada_program.specs.Controlled.{number_reached, shapes_of}
use Rattle.ada_parts.specs.declared.tasks.Direction.TheVariants.{PartsFirst}
use Rattle.ada_parts.specs.Shape.{Shape as TypeShape}
use Rattle.ada_parts.specs.Part.{Part, LiesIn, parts_at}
use Rattle.ada_parts.specs.Task.{Task, performs}
use Rattle.ada_parts.specs.Law.{parts_left}
use Rattle.ada_parts.proofs.Orders.{Outer}
use Rattle.ada_meaning.specs.declared.state.Id.{Id}
use Rattle.ada_meaning.specs.declared.state.Place.{Place}
use Rattle.ada_meaning.specs.declared.state.Value.{Value}
use Rattle.ada_meaning.specs.declared.state.Value.TheVariants.{Null, Names, Scalar, Part as Inside}
use Rattle.ada_meaning.specs.declared.state.Stage.TheVariants.{Existing, Gone}
use Rattle.ada_meaning.specs.declared.state.Mode.TheVariants.{Running, Raising}
use Rattle.ada_meaning.specs.declared.event.Birth.{Birth}
use Rattle.ada_meaning.specs.declared.event.Birth.TheVariants.{Adjustment}
use Rattle.ada_meaning.specs.declared.event.Cause.{Cause}
use Rattle.ada_meaning.specs.declared.event.Cause.TheVariants.{Assigning}
use Rattle.ada_meaning.specs.Event.{Born, Finalized}
use Rattle.ada_meaning.specs.Frame.{Frame, Treatment, begins, ends}
use Rattle.ada_meaning.specs.Frame as frame
use Rattle.ada_meaning.specs.Heap.{PartState, Cell, finds}
use Rattle.ada_meaning.specs.Step.{parts_held, operands, first_or, older}
use Rattle.ada_meaning.specs.Named.{Object, State, look}
use Rattle.ada_meaning.specs.Run.{Event}
use Rattle.ada_meaning.specs.Law.{back_of, cause_of, Happened}
use Rattle.ada_meaning.specs.Life.{KeepsObjects}
use Rattle.ada_meaning.specs.Finalization.{BegunPart, begun_of, EndedPart, adjusted_by, assigned_by}
use Rattle.ada_finalized.proofs.Counts.{count}
use Rattle.ada_finalized.proofs.Treated.{Treated, Clearing, parts_in_all, undoing}
use Rattle.ada_finalized.proofs.Ranks.{Heap, rank_at, rise, bare, set_other, alike_at}
use Rattle.ada_finalized.proofs.Doings.{name, Doing, Treating, Ending, doings, rest, begin, end, key, number_of, Of, of_map, Other, OfTreatments, IsLeft, Apart, Fewer, fewer_of, fewer_apart}
use Rattle.ada_finalized.proofs.Stacks.{Acts, Control, code, guard, finalization, Stack, stack_on, storing_then}
use Rattle.ada_finalized.proofs.Claims.{Claims, claims_fewer, claims_alike}

-- All controlled parts of an object.
abbrev pub all_of : List TypeDefinition → Object → List Part
all_of types x = parts_in_all (shapes_of types) (number_reached types x.cell.access)

-- An object exists, its words are out, and it has as many parts as its type says; or it is gone, and no part has a value.
pub data Sane (types : List TypeDefinition) (x : Object) : Type 0 where
  exists : x.stage ≡ Existing → x.out ≡ true → length x.cell.parts ≡ parts_held types x.cell.access → Sane types x
  is_gone : x.stage ≡ Gone → x.listed ≡ false → ((n : ℕ) (p : PartState) → slice_get x.cell.parts n ≡ Some p → p.alive ≡ false) → Sane types x

abbrev pub AllSane : List TypeDefinition → Heap → Type 0
AllSane types xs = (j : ℕ) (y : Object) → slice_get xs j ≡ Some y → Sane types y

-- Its components do not count.
sane_bare : (types : List TypeDefinition) (x : Object) → Sane types x → Sane types (bare x)
sane_bare types x (exists stage out parts) = exists stage out parts
sane_bare types x (is_gone stage listed dead) = is_gone stage listed dead

sane_filled : (types : List TypeDefinition) (x : Object) → Sane types (bare x) → Sane types x
sane_filled types x (exists stage out parts) = exists stage out parts
sane_filled types x (is_gone stage listed dead) = is_gone stage listed dead

sane_alike : (types : List TypeDefinition) (x y : Object) → bare x ≡ bare y → Sane types x → Sane types y
sane_alike types x y e h = sane_filled types y (subst (Sane types) e (sane_bare types x h))

-- A number of an assignment is used up.
abbrev pub Numbered : Option ℕ → (next : ℕ) → Type 0
Numbered number next = (n : ℕ) → number ≡ Some n → n < next

-- The words of an object are out, or back.
abbrev pub IsOut : Heap → ℕ → Bool → Type 0
IsOut xs o out = (x : Object) × ((slice_get xs o ≡ Some x) × (x.out ≡ out))

-- An object has left its collection.
abbrev pub IsUnlisted : Heap → ℕ → Type 0
IsUnlisted xs o = (x : Object) × ((slice_get xs o ≡ Some x) × (x.listed ≡ false))

-- The part of an object that has begun.
abbrev pub begun_part : (object : ℕ) → Part → Birth → BegunPart
begun_part o p by = record { treated = record { object = record { 0 = o }; part = p }; by = by }

-- What a treatment has called has happened.
abbrev pub Recorded : (past : List Event) → (object : ℕ) → Birth → (called : List Part) → Type 0
Recorded past o by called = (p : Part) → Contains called p → Happened (λ e. begun_of e ≡ Some (begun_part o p by)) past

-- What ends a part is over for its object: its number is used up; or, at a leaving, the object has left its collection.
pub record Caused (o : ℕ) (cause : Cause) (xs : Heap) (next : ℕ) : Type 0 where
  pub numbered : Numbered (number_of cause) next
  pub parted : number_of cause ≡ None → IsUnlisted xs o

-- The parts of an object come to have values: each is called already, or is left, and not both; and they can be finalized in the reverse order. A new object
-- has no others.
pub record Begins (types : List TypeDefinition) (past : List Event) (xs : Heap) (next o : ℕ) (by : Birth) (done : List Part) (tasks : List Task) : Type 0 where
  pub all : List Part
  pub treated : Treated (shapes_of types) PartsFirst all done tasks
  pub recorded : Recorded past o by done
  pub numbered : Numbered (adjusted_by by) next
  pub there : adjusted_by by ≡ None → o < length xs
  pub whole : adjusted_by by ≡ None → (x : Object) → slice_get xs o ≡ Some x → (n : ℕ) → n < parts_held types x.cell.access → 1 ≤ count n all
  pub undoes : Outer (shapes_of types) (undoing done)

pub record Clears (types : List TypeDefinition) (xs : Heap) (next o : ℕ) (cause : Cause) (tasks : List Task) : Type 0 where
  pub clearing : Clearing (shapes_of types) tasks
  pub caused : Caused o cause xs next

abbrev pub Fine : List TypeDefinition → (past : List Event) → Heap → (next : ℕ) → Doing → Type 0
Fine types past xs next (Treating v (begins by done) tasks) = (o : ℕ) × ((v ≡ name o) × Begins types past xs next o by done tasks)
Fine types past xs next (Treating v (ends cause) tasks) = (o : ℕ) × ((v ≡ name o) × Clears types xs next o cause tasks)
Fine types past xs next (Ending v) = (o : ℕ) × ((v ≡ name o) × IsUnlisted xs o)

-- What something is done to exists.
abbrev pub Exists : Heap → Value → Type 0
Exists xs v = (o : ℕ) × ((v ≡ name o) × ((x : Object) × ((slice_get xs o ≡ Some x) × (x.stage ≡ Existing))))

abbrev pub IsThere : Heap → Doing → Type 0
IsThere xs (Treating v treatment tasks) = Exists xs v
IsThere xs (Ending v) = Exists xs v

-- What holds of the objects, and of what is being done to them.
pub record Inv (types : List TypeDefinition) (past : List Event) (xs : Heap) (next : ℕ) (ds : List Doing) : Type 0 where
  pub fine : Of (Fine types past xs next) ds
  pub apart : Apart ds
  pub claims : Claims (shapes_of types) xs ds
  pub sane : AllSane types xs
  pub there : Of (IsThere xs) ds

pub inv_fewer : (types : List TypeDefinition) (past : List Event) (xs : Heap) (next : ℕ) (ds es : List Doing) → Fewer ds es → Inv types past xs next ds → Inv types past xs next es
inv_fewer types past xs next ds es f h = record {
  fine = fewer_of (Fine types past xs next) ds es f h.fine;
  apart = fewer_apart ds es f h.apart;
  claims = claims_fewer (shapes_of types) xs ds es f h.claims;
  sane = h.sane;
  there = fewer_of (IsThere xs) ds es f (h.there);
}

-- Objects stay there, and what has left its collection stays out of it.
pub out_kept : (xs ys : Heap) (o : ℕ) → KeepsObjects xs ys → IsOut xs o false → IsOut ys o false
out_kept [] ys o k (x, (is, out)) = absurd (cc is)
out_kept (z ∷ xs) [] o k out = absurd k
out_kept (z ∷ xs) (y ∷ ys) zero k (x, (is, out)) = let one : x ≡ z = cc is in (y, (refl, k.0.back (subst (λ (u : Object). u.out ≡ false) one out)))
out_kept (z ∷ xs) (y ∷ ys) (suc o) k (x, (is, out)) = out_kept xs ys o k.1 (x, (is, out))

pub unlisted_kept : (xs ys : Heap) (o : ℕ) → KeepsObjects xs ys → IsUnlisted xs o → IsUnlisted ys o
unlisted_kept [] ys o k (x, (is, unlisted)) = absurd (cc is)
unlisted_kept (z ∷ xs) [] o k unlisted = absurd k
unlisted_kept (z ∷ xs) (y ∷ ys) zero k (x, (is, unlisted)) = let one : x ≡ z = cc is in (y, (refl, k.0.unlisted (subst (λ (u : Object). u.listed ≡ false) one unlisted)))
unlisted_kept (z ∷ xs) (y ∷ ys) (suc o) k (x, (is, unlisted)) = unlisted_kept xs ys o k.1 (x, (is, unlisted))

pub length_kept : (xs ys : Heap) → KeepsObjects xs ys → length xs ≤ length ys
length_kept [] ys k = omega arith
length_kept (z ∷ xs) [] k = absurd k
length_kept (z ∷ xs) (y ∷ ys) k = let le = length_kept xs ys k.1 in omega (arith, le)

access_kept : (xs ys : Heap) (o : ℕ) (y : Object) → KeepsObjects xs ys → o < length xs → slice_get ys o ≡ Some y → (x : Object) × ((slice_get xs o ≡ Some x) × (y.cell.access ≡ x.cell.access))
access_kept [] ys o y k lt is = absurd (omega (arith, lt))
access_kept (z ∷ xs) [] o y k lt is = absurd k
access_kept (z ∷ xs) (w ∷ ys) zero y k lt is = let one : w ≡ y = cc is in (z, (refl, subst (λ (u : Object). u.cell.access ≡ z.cell.access) one k.0.access))
access_kept (z ∷ xs) (w ∷ ys) (suc o) y k lt is = access_kept xs ys o y k.1 (omega (arith, lt)) is

-- So what is fine stays fine.
module _ (types : List TypeDefinition) (past : List Event) (e : Event) (xs ys : Heap) (next later : ℕ) (keeps : KeepsObjects xs ys) (grows : next ≤ later) where
  numbered_on : (number : Option ℕ) → Numbered number next → Numbered number later
  numbered_on number h n is = let lt = h n is in omega (arith, lt, grows)

  pub caused_on : (o : ℕ) (cause : Cause) → Caused o cause xs next → Caused o cause ys later
  caused_on o cause h = record { numbered = numbered_on (number_of cause) h.numbered; parted = λ none. unlisted_kept xs ys o keeps (h.parted none) }

  pub begins_on : (o : ℕ) (by : Birth) (done : List Part) (tasks : List Task) → Begins types past xs next o by done tasks → Begins types (e ∷ past) ys later o by done tasks
  begins_on o by done tasks h = record {
    all = h.all;
    treated = h.treated;
    recorded = λ p has. inr (h.recorded p has);
    numbered = numbered_on (adjusted_by by) h.numbered;
    there = λ own. (let lt = h.there own in let le = length_kept xs ys keeps in omega (arith, lt, le));
    whole = λ own y is n lt.
        let x = access_kept xs ys o y keeps (h.there own) is in
        h.whole own x.0 x.1.0 n (subst (λ (access : ℕ). n < parts_held types access) x.1.1 lt);
    undoes = h.undoes;
  }

  fine_one : (d : Doing) → Fine types past xs next d → Fine types (e ∷ past) ys later d
  fine_one (Treating v (begins by done) tasks) h = (h.0, (h.1.0, begins_on h.0 by done tasks h.1.1))
  fine_one (Treating v (ends cause) tasks) h = (h.0, (h.1.0, record { clearing = h.1.1.clearing; caused = caused_on h.0 cause h.1.1.caused }))
  fine_one (Ending v) h = (h.0, (h.1.0, unlisted_kept xs ys h.0 keeps h.1.1))

  pub fine_on : (ds : List Doing) → Of (Fine types past xs next) ds → Of (Fine types (e ∷ past) ys later) ds
  fine_on ds h = of_map (Fine types past xs next) (Fine types (e ∷ past) ys later) ds fine_one h

-- An object that exists does so among other ones.
abbrev pub StaysThere : Heap → Heap → Type 0
StaysThere xs ys = (o : ℕ) (x : Object) → slice_get xs o ≡ Some x → x.stage ≡ Existing → (y : Object) × ((slice_get ys o ≡ Some y) × (y.stage ≡ Existing))

there_one : (xs ys : Heap) (d : Doing) → StaysThere xs ys → IsThere xs d → IsThere ys d
there_one xs ys (Treating v treatment tasks) stays h = (h.0, (h.1.0, stays h.0 h.1.1.0 h.1.1.1.0 h.1.1.1.1))
there_one xs ys (Ending v) stays h = (h.0, (h.1.0, stays h.0 h.1.1.0 h.1.1.1.0 h.1.1.1.1))

pub there_on : (xs ys : Heap) (ds : List Doing) → StaysThere xs ys → Of (IsThere xs) ds → Of (IsThere ys) ds
there_on xs ys ds stays h = of_map (IsThere xs) (IsThere ys) ds (λ d. there_one xs ys d stays) h

-- So it is where one object changes to which nothing is done.
pub there_others : (xs : Heap) (o : ℕ) (y : Object) (ds : List Doing) → Of (Other o) ds → Of (IsThere xs) ds → Of (IsThere (slice_set xs o y)) ds
there_others xs o y [] others h = tt
there_others xs o y (Treating v treatment tasks ∷ ds) others h =
    let t = h.0 in
    let ne : o ≢ t.0 = λ same. others.0 (t.1.0 ∙ sym (ap name same)) in
    ((t.0, (t.1.0, (t.1.1.0, (set_other xs o t.0 y ne ∙ t.1.1.1.0, t.1.1.1.1)))), there_others xs o y ds others.1 h.1)
there_others xs o y (Ending v ∷ ds) others h =
    let t = h.0 in
    let ne : o ≢ t.0 = λ same. others.0 (t.1.0 ∙ sym (ap name same)) in
    ((t.0, (t.1.0, (t.1.1.0, (set_other xs o t.0 y ne ∙ t.1.1.1.0, t.1.1.1.1)))), there_others xs o y ds others.1 h.1)

-- Components do not count.
pub stays_alike : (xs ys : Heap) → map bare ys ≡ map bare xs → StaysThere xs ys
stays_alike xs ys e o x is stage =
    let y = alike_at ys xs o x (sym e) is in
    (y.0, (y.1.0, ap (λ (u : Object). u.stage) y.1.1 ∙ stage))

pub inv_alike :
    (types : List TypeDefinition) (past : List Event) (e : Event) (xs ys : Heap) (next later : ℕ) (ds : List Doing) → KeepsObjects xs ys → next ≤ later
    → map bare ys ≡ map bare xs → Inv types past xs next ds → Inv types (e ∷ past) ys later ds
inv_alike types past e xs ys next later ds keeps grows same h = record {
  fine = fine_on types past e xs ys next later keeps grows ds h.fine;
  apart = h.apart;
  claims = claims_alike (shapes_of types) xs ys ds same h.claims;
  sane = λ j y is. (let x = alike_at xs ys j y same is in sane_alike types x.0 y x.1.1 (h.sane j x.0 x.1.0));
  there = there_on xs ys ds (stays_alike xs ys same) (h.there);
}

-- How a state stands.

-- What is referred to exists.
abbrev pub Referred : Heap → Value → Type 0
Referred xs Null = Unit {0}
Referred xs (Names o) = Unit {0}
Referred xs (Scalar v) = Unit {0}
Referred xs (Inside o place) = (cell : Cell Value) × (look xs (Names o) ≡ finds cell)

-- What is left to do behind a record that is found, the target of an assignment or its source: so it is with these operands.
pub data Then (xs : Heap) (pending : List Value) : Control → Type 0 where
  source_next : (source : RecordPathForm) (t : ℕ) (k : Control) → Then xs pending (frame.Refers source ∷ frame.Assigns t ∷ k)
  assigns_next : (t : ℕ) (k : Control) → Referred xs (first_or Null pending) → Then xs pending (frame.Assigns t ∷ k)

-- The records of an assignment are found, with these operands.
pub data Finding (xs : Heap) (pending : List Value) : Control → Type 0 where
  seeks : (p : RecordPathForm) (behind : Control) → Then xs pending behind → Finding xs pending (frame.Refers p ∷ behind)
  follows :
      (cs : List ℕ) (place : Place) (t : ℕ) (behind : Control) → Then xs (older pending) behind
      → Finding xs pending (frame.Follows cs ∷ frame.RefersIn place t ∷ behind)
  reaches :
      (place : Place) (t : ℕ) (behind : Control) → Then xs (older pending) behind → Finding xs pending (frame.RefersIn place t ∷ behind)
  assigns : (t : ℕ) (k : Control) → Referred xs (first_or Null (older pending)) → Finding xs pending (frame.Assigns t ∷ k)

-- An exception passes what is left of that.
pub data Passing : Control → Type 0 where
  passes_assigns : (t : ℕ) (k : Control) → Passing (frame.Assigns t ∷ k)
  passes_refers : (p : RecordPathForm) (k : Control) → Passing k → Passing (frame.Refers p ∷ k)
  passes_in : (place : Place) (t : ℕ) (k : Control) → Passing k → Passing (frame.RefersIn place t ∷ k)

-- Code is behind that.
abbrev pub AssignsThen : List TypeDefinition → Heap → Acts → Control → Type 0
AssignsThen types xs acts [] = ⊥
AssignsThen types xs acts (frame.Assigns t ∷ k) = Stack types xs code acts k
AssignsThen types xs acts (f ∷ k) = ⊥

-- The state, with these objects behind its operations: those that are there, or those that were there before a step.
pub data Stands (types : List TypeDefinition) (xs : Heap) (s : State) : Type 0 where
  runs : Stack types xs code s.activations s.control → Stands types xs s
  finding : s.mode ≡ Running → Finding s.heap (operands s) s.control → AssignsThen types xs s.activations (rest s.control) → Stands types xs s
  passing : (e : Exception) → s.mode ≡ Raising e → Passing s.control → AssignsThen types xs s.activations (rest s.control) → Stands types xs s
  ends_operation : Stack types xs guard s.activations s.control → Stands types xs s
  beginning :
      (o : ℕ) (by : Birth) (done : List Part) (task : Task) (tasks : List Task) (k : Control) → s.mode ≡ Running
      → s.control ≡ frame.Treats (name o) (begins by done) (task ∷ tasks) ∷ k → Stack types xs code s.activations k → Stands types xs s
  ending : s.mode ≡ Running → Stack types xs finalization s.activations s.control → Stands types xs s
  leaving :
      (o : ℕ) (x : Object) (cause : Cause) (pool : Option ℕ) (k : Control) → s.mode ≡ Running → s.control ≡ frame.GivesBack (name o) cause pool ∷ k
      → assigned_by (Some cause) ≡ None → Stack types xs code s.activations k → slice_get s.heap o ≡ Some x → x.stage ≡ Gone → Stands types xs s
  storing :
      (o n to width : ℕ) (tasks : List Task) (k : Control) → s.mode ≡ Running → s.control ≡ storing_then o n to width tasks k
      → Stack types xs code s.activations k → Stands types xs s

assigns_on : (types : List TypeDefinition) (xs ys : Heap) (acts : Acts) (k : Control) → KeepsObjects xs ys → AssignsThen types xs acts k → AssignsThen types ys acts k
assigns_on types xs ys acts [] keeps h = absurd h
assigns_on types xs ys acts (frame.Assigns t ∷ k) keeps h = stack_on types xs ys keeps h
assigns_on types xs ys acts (f ∷ k) keeps h = absurd h

pub stands_on : (types : List TypeDefinition) (xs : Heap) (s : State) → KeepsObjects xs s.heap → Stands types xs s → Stands types s.heap s
stands_on types xs s keeps (runs h) = runs (stack_on types xs s.heap keeps h)
stands_on types xs s keeps (finding running f after) = finding running f (assigns_on types xs s.heap s.activations (rest s.control) keeps after)
stands_on types xs s keeps (passing e raises p after) = passing e raises p (assigns_on types xs s.heap s.activations (rest s.control) keeps after)
stands_on types xs s keeps (ends_operation h) = ends_operation (stack_on types xs s.heap keeps h)
stands_on types xs s keeps (beginning o by done task tasks k running is h) = beginning o by done task tasks k running is (stack_on types xs s.heap keeps h)
stands_on types xs s keeps (ending running h) = ending running (stack_on types xs s.heap keeps h)
stands_on types xs s keeps (leaving o x cause pool k running is own h at_o gone) =
    leaving o x cause pool k running is own (stack_on types xs s.heap keeps h) at_o gone
stands_on types xs s keeps (storing o n to width tasks k running is h) = storing o n to width tasks k running is (stack_on types xs s.heap keeps h)

-- A state of a run, after these events, the newest first.
pub record Fits (types : List TypeDefinition) (past : List Event) (s : State) : Type 0 where
  pub stands : Stands types s.heap s
  pub inv : Inv types past s.heap s.next (doings s.control)

-- Where a treatment comes from that is left after a step: it goes on, or it is a new one.
pub data Origin (types : List TypeDefinition) (s : State) (v : Value) (treatment : Treatment) (tasks : List Task) : Type 0 where
  goes_on :
      (earlier : Treatment) (before : List Task) → IsLeft v earlier before (doings s.control) → key earlier ≡ key treatment
      → ((n : ℕ) → count n (parts_left (shapes_of types) tasks) ≤ count n (parts_left (shapes_of types) before)) → Origin types s v treatment tasks
  creates : (by : Birth) → key treatment ≡ begin by → adjusted_by by ≡ None → v ≡ name (length s.heap) → Origin types s v treatment tasks
  adjusts : key treatment ≡ begin (Adjustment s.next) → Origin types s v treatment tasks
  clears : (cause : Cause) → key treatment ≡ end cause → number_of cause ≡ Some s.next → Origin types s v treatment tasks
  parts :
      (cause : Cause) (o : ℕ) (x : Object) → key treatment ≡ end cause → number_of cause ≡ None → v ≡ name o → slice_get s.heap o ≡ Some x
      → x.listed ≡ true → Origin types s v treatment tasks

-- What an event tells.

-- It tells of no value of a part.
abbrev pub Untold : Event → Type 0
Untold (Born object part turn type number by) = ⊥
Untold (Finalized object part turn type number cause) = ⊥
Untold e = Unit {0}

-- By a creation or an assignment under which this part has begun, no part that lies in it is left.
abbrev pub NoneInside : List TypeShape → BegunPart → Value → Treatment → List Task → Type 0
NoneInside shapes b v treatment tasks =
    v ≡ name b.treated.object.0 → key treatment ≡ begin b.by → (m : ℕ) → LiesIn shapes m b.treated.part → count m (parts_left shapes tasks) ≡ 0

-- By a cause by which this part has ended, it is not left.
abbrev pub NotLeft : List TypeShape → EndedPart → Value → Treatment → List Task → Type 0
NotLeft shapes t v treatment tasks =
    v ≡ name t.treated.object.0 → key treatment ≡ end t.cause → count t.treated.part.number (parts_left shapes tasks) ≡ 0

-- By an assignment, nothing is finalized any more.
abbrev pub NotCleared : (n : ℕ) → Value → Treatment → List Task → Type 0
NotCleared n v treatment tasks = key treatment ≢ end (Assigning n)

-- A step changes no rank; or the value of one part comes to exist, where all that lies in it has come to exist; or it is finalized, where all that lies in it
-- is still to be.
pub data Told (types : List TypeDefinition) (past : List Event) (s : State) (e : Event) (after : State) : Type 0 where
  still :
      Untold e → assigned_by (cause_of e) ≡ None → ((j m : ℕ) → rank_at after.heap j m ≡ rank_at s.heap j m)
      → ((o : Id) → back_of e ≡ Some o → IsOut after.heap o.0 false) → Told types past s e after
  bears :
      (o n of turn number : ℕ) (by : Birth) (done : List Part) (behind : List Task) → e ≡ Born (name o) n turn of number by
      → rank_at s.heap o n ≡ turn + turn → ((j m : ℕ) → rank_at after.heap j m ≡ rank_at s.heap j m + rise o n j m) → IsOut s.heap o true
      → o < length after.heap → Numbered (adjusted_by by) after.next → IsLeft (name o) (begins by done) (performs of n ∷ behind) (doings s.control)
      → OfTreatments (NoneInside (shapes_of types) (begun_part o (record { of = of; number = n }) by)) (doings after.control)
      → ((m : ℕ) → adjusted_by by ≡ Some m → OfTreatments (NotCleared m) (doings after.control))
      → ((p : Part) → LiesIn (shapes_of types) p.number (record { of = of; number = n }) → Contains (parts_at (shapes_of types) of n) p
      → Happened (λ f. begun_of f ≡ Some (begun_part o p by)) past) → Told types past s e after
  finalizes :
      (o n of turn number : ℕ) (cause : Cause) (behind : List Task) → e ≡ Finalized (name o) n turn of number cause → rank_at s.heap o n ≡ turn + turn + 1
      → ((j m : ℕ) → rank_at after.heap j m ≡ rank_at s.heap j m + rise o n j m) → IsOut s.heap o true → Caused o cause after.heap after.next
      → IsLeft (name o) (ends cause) (performs of n ∷ behind) (doings s.control)
      → OfTreatments (NotLeft (shapes_of types) (record { treated = record { object = record { 0 = o }; part = record { of = of; number = n } }; cause = cause })) (doings after.control)
      → ((m : ℕ) → LiesIn (shapes_of types) m (record { of = of; number = n }) → 1 ≤ count m (parts_left (shapes_of types) behind)) → Told types past s e after

-- Where a step leads.
pub record Goes (types : List TypeDefinition) (past : List Event) (s : State) (e : Event) (after : State) : Type 0 where
  pub fits : Fits types (e ∷ past) after
  pub told : Told types past s e after
  pub origins : OfTreatments (Origin types s) (doings after.control)

-- What is known of any step: numbers grow, and objects stay.
pub record Passed (s after : State) : Type 0 where
  pub grows : s.next ≤ after.next
  pub keeps : KeepsObjects s.heap after.heap

-- So the next step leads somewhere.
abbrev pub GoesOn : List TypeDefinition → List Event → State → Event → State → Type 0
GoesOn types past s e after = Passed s after → Goes types past s e after

-- What goes on, comes from itself.
pub origins_kept :
    (types : List TypeDefinition) (s : State) (ds : List Doing)
    → ((v : Value) (treatment : Treatment) (tasks : List Task) → IsLeft v treatment tasks ds → IsLeft v treatment tasks (doings s.control))
    → OfTreatments (Origin types s) ds
origins_kept types s [] within = tt
origins_kept types s (Treating v treatment tasks ∷ ds) within =
    (goes_on treatment tasks (within v treatment tasks (inl refl)) refl (λ n. omega arith), origins_kept types s ds (λ w u ts is. within w u ts (inr is)))
origins_kept types s (Ending v ∷ ds) within = (tt, origins_kept types s ds (λ w u ts is. within w u ts (inr is)))
