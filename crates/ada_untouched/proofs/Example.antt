-- A path is followed, beside a hidden component and a ghost, and into them; a component is written, beside a hidden one, and a hidden one is; and a
-- record is copied as a whole, beside a hidden component and a ghost. A path is followed to an object that is past; and words go back of one that is not.

use Rattle.std.proofs.Common.{◌≡◌, ◌≢◌, ℕ, zero, suc, Bool, true, false, List, [], ◌∷◌, Some, None, refl, ap, ◌∙◌, inl, inr, arith}
use Rattle.std.specs.Prelude.{◌==◌, ◌&&◌}
use Rattle.std.specs.List.{slice_get}
use Rattle.ada_program.specs.Form.{value_of}
use Rattle.ada_program.specs.ProgramForm.{nowhere}
use Rattle.ada_program.specs.declared.program.ComponentKind.{ComponentKind}
use Rattle.ada_program.specs.declared.program.ComponentKind.TheVariants as component
use Rattle.ada_program.specs.declared.program.PartKind.TheVariants as part
use Rattle.ada_program.specs.declared.program.TypeDefinition.{TypeDefinition}
use Rattle.ada_program.specs.declared.program.TypeDefinition.TheVariants as definition
use Rattle.ada_meaning.specs.declared.event.Cause.TheVariants.{Freeing}
use Rattle.ada_meaning.specs.declared.state.Id.{Id}
use Rattle.ada_meaning.specs.declared.state.Mode.TheVariants.{Running}
use Rattle.ada_meaning.specs.declared.state.Stage.{Stage}
use Rattle.ada_meaning.specs.declared.state.Stage.TheVariants.{Existing, Gone}
use Rattle.ada_meaning.specs.declared.state.Value.{Value}
use Rattle.ada_meaning.specs.declared.state.Value.TheVariants.{Null, Names}
use Rattle.ada_meaning.specs.Event.{Followed}
use Rattle.ada_meaning.specs.Frame.{Frame}
use Rattle.ada_meaning.specs.Frame as frame
use Rattle.ada_meaning.specs.Step.{halts, moves, tells, asks, picks, computed, newest}
use Rattle.ada_meaning.specs.Named.{Object, State, Next, named, next}
use Rattle.ada_meaning.proofs.OperationExamples.{vec, no_name, component_of}
use Rattle.ada_untouched.specs.Alike.{ValuesAlike, ObjectsAlike, FoundAlike, HeapsAlike, NextBy, NextAlike}
use Rattle.ada_untouched.specs.Past.{SameOrPast, HeapsButForPast}
use Rattle.ada_untouched.specs.Untouched.{AreShown}
use Rattle.ada_untouched.specs.Example.{FollowsBeside, PremisesAreMet, LooksAtGhost, LooksAtHidden, PremiseIsNeeded, WritesShown, WritesHidden, WritesBeside, CopiesRecord, CopiesBeside, RecordsAreCopiedBeside, FollowsPast, GivesBackDiffering, PastObjectsDiffer}

abbrev holder : Id
holder = record { 0 = 0 }

abbrev other : Id
other = record { 0 = 1 }

abbrev ghost : Id
ghost = record { 0 = 2 }

-- An object with these components, which has been taken out of its collection, with its words out, or not.
abbrev an_object : List Value → Stage → Bool → Object
an_object vs stage there = record {
  cell = record { access = 0; number = 1; home = record { item = 0; pool = Some 0; subpool = None }; values = vs; parts = [] };
  stage = stage;
  listed = false;
  out = there;
}

-- The second component of the first object holds this, and the last object exists, or does not.
abbrev heap_with : Value → Stage → Bool → List Object
heap_with v stage there =
    an_object (Names other ∷ v ∷ []) Existing true ∷ an_object (Names holder ∷ []) Existing true ∷ an_object (Null ∷ []) stage there ∷ []

-- A path from a variable is followed next; the first variable holds the name of the first object, and the other one that of the last.
abbrev reading_path : (root : ℕ) → (selectors : List ℕ) → List Object → State
reading_path root selectors heap = record {
  activations = record { procedure = None; places = Names holder ∷ Names ghost ∷ []; operands = [] } ∷ [];
  masters = [];
  control = frame.Evaluates (value_of (record { root = root; of_record = false; selectors = selectors; spot = nowhere })) ∷ frame.Stores 1 ∷ [];
  mode = Running;
  input = [];
  next = 0;
  allocated = 3;
  born = 0;
  heap = heap;
}

abbrev hidden_one : Id → (component : ℕ) → Bool
hidden_one o c = (o.0 == 0) && (c == 1)

abbrev none_hidden : Id → (component : ℕ) → Bool
none_hidden o c = false

abbrev one_ghost : Id → Bool
one_ghost o = o.0 == 2

abbrev no_ghost : Id → Bool
no_ghost o = false

beside : (w v u : Value) (vs : List Value) → ValuesAlike (hidden_one holder) (w ∷ v ∷ vs) (w ∷ u ∷ vs)
beside w v u vs = record { count = refl; values = at_component }
  where
    at_component : (c : ℕ) → hidden_one holder c ≡ false → slice_get (w ∷ v ∷ vs) c ≡ slice_get (w ∷ u ∷ vs) c
    at_component zero shown = refl
    at_component (suc zero) shown = absurd (cc)
    at_component (suc (suc c)) shown = refl

itself : (hides : ℕ → Bool) (x : Object) → ObjectsAlike hides false x x
itself hides x = record { values = record { count = refl; values = λ c shown. refl }; cell = refl; listed = refl; life = refl }

gone_or_not : (hides : ℕ → Bool) (vs : List Value) (stage later : Stage) (there still : Bool) → ObjectsAlike hides true (an_object vs stage there) (an_object vs later still)
gone_or_not hides vs stage later there still = record { values = record { count = refl; values = λ c shown. refl }; cell = refl; listed = refl; life = tt }

-- The first states are alike but for both.
alike_but_for_both : HeapsAlike hidden_one one_ghost (heap_with (Names ghost) Existing true) (heap_with Null Gone false)
alike_but_for_both = record { count = refl; objects = λ o. under o.0 }
  where
    under : (i : ℕ) → FoundAlike (hidden_one (record { 0 = i })) (one_ghost (record { 0 = i })) (slice_get (heap_with (Names ghost) Existing true) i) (slice_get (heap_with Null Gone false) i)
    under zero = record { values = beside (Names other) (Names ghost) Null []; cell = refl; listed = refl; life = refl }
    under (suc zero) = itself (hidden_one other) (an_object (Names holder ∷ []) Existing true)
    under (suc (suc zero)) = gone_or_not (hidden_one ghost) (Null ∷ []) Existing Gone true false
    under (suc (suc (suc i))) = tt

alike_but_for_ghost : HeapsAlike none_hidden one_ghost (heap_with Null Existing true) (heap_with Null Gone false)
alike_but_for_ghost = record { count = refl; objects = λ o. under o.0 }
  where
    under : (i : ℕ) → FoundAlike (none_hidden (record { 0 = i })) (one_ghost (record { 0 = i })) (slice_get (heap_with Null Existing true) i) (slice_get (heap_with Null Gone false) i)
    under zero = itself (none_hidden holder) (an_object (Names other ∷ Null ∷ []) Existing true)
    under (suc zero) = itself (none_hidden other) (an_object (Names holder ∷ []) Existing true)
    under (suc (suc zero)) = gone_or_not (none_hidden ghost) (Null ∷ []) Existing Gone true false
    under (suc (suc (suc i))) = tt

alike_but_for_hidden : HeapsAlike hidden_one no_ghost (heap_with (Names ghost) Existing true) (heap_with Null Existing true)
alike_but_for_hidden = record { count = refl; objects = λ o. under o.0 }
  where
    under : (i : ℕ) → FoundAlike (hidden_one (record { 0 = i })) (no_ghost (record { 0 = i })) (slice_get (heap_with (Names ghost) Existing true) i) (slice_get (heap_with Null Existing true) i)
    under zero = record { values = beside (Names other) (Names ghost) Null []; cell = refl; listed = refl; life = refl }
    under (suc zero) = itself (hidden_one other) (an_object (Names holder ∷ []) Existing true)
    under (suc (suc zero)) = itself (hidden_one ghost) (an_object (Null ∷ []) Existing true)
    under (suc (suc (suc i))) = tt

-- The first component of the first object is followed, and then that of the object that it names.
abbrev before : List Object → State
before heap = reading_path 0 (0 ∷ 0 ∷ []) heap

abbrev after : List Object → State
after heap = computed (Names other) (record (before heap) { control = frame.Follows (0 ∷ []) ∷ frame.Stores 1 ∷ [] })

follows_beside :
    FollowsBeside [] [] hidden_one one_ghost (before (heap_with (Names ghost) Existing true)) (before (heap_with Null Gone false))
    (after (heap_with (Names ghost) Existing true)) (after (heap_with Null Gone false))
unfolding next
follows_beside = record {
  untouched = (refl, refl);
  alike = record { rest = refl; heaps = alike_but_for_both };
  followed = holder;
  beside = (1, record { is_hidden = refl; differs = λ e. absurd (cc) });
  ghost = (ghost, record { is_ghost = refl; differs = λ e. absurd (cc) });
  follows = refl;
  follows_too = refl;
  finds = (other, refl);
  goes_on = (refl, refl);
}

pub premises_are_met : PremisesAreMet
premises_are_met = (
  [],
  [],
  hidden_one,
  one_ghost,
  before (heap_with (Names ghost) Existing true),
  before (heap_with Null Gone false),
  after (heap_with (Names ghost) Existing true),
  after (heap_with Null Gone false),
  follows_beside,
)

-- The ghost is followed.
abbrev into_ghost : List Object → State
into_ghost heap = reading_path 1 (0 ∷ []) heap

looks_at_ghost : LooksAtGhost [] [] one_ghost (into_ghost (heap_with Null Existing true)) (into_ghost (heap_with Null Gone false))
unfolding next
looks_at_ghost = record {
  alike = record { rest = refl; heaps = alike_but_for_ghost };
  goes_on = (ghost, computed Null (record (into_ghost (heap_with Null Existing true)) { control = frame.Stores 1 ∷ [] }), refl);
  ends = refl;
}

-- The hidden component is read.
abbrev into_hidden : List Object → State
into_hidden heap = reading_path 0 (1 ∷ []) heap

-- The newest operand, where a step is taken.
abbrev read_by : Next → Value
read_by (halts h) = Null
read_by (moves e s) = newest named s
read_by (tells r e s) = Null
read_by (asks r answered) = Null
read_by (picks count taken) = Null

reads_apart :
    NextAlike hidden_one no_ghost (next [] [] (into_hidden (heap_with (Names ghost) Existing true))) (next [] [] (into_hidden (heap_with Null Existing true)))
    → ⊥
unfolding next
reads_apart p =
    let null : Null ≡ newest named p.0 = ap read_by p.1 in
    let name : newest named p.0 ≡ Names ghost = ap (λ (s : State). newest named s) p.2.rest in
    absurd (cc (null ∙ name))

looks_at_hidden : LooksAtHidden [] [] hidden_one (into_hidden (heap_with (Names ghost) Existing true)) (into_hidden (heap_with Null Existing true))
looks_at_hidden = record { alike = record { rest = refl; heaps = alike_but_for_hidden }; goes_apart = reads_apart }

pub premise_is_needed : PremiseIsNeeded
premise_is_needed = (
  ([], [], one_ghost, into_ghost (heap_with Null Existing true), into_ghost (heap_with Null Gone false), looks_at_ghost),
  ([], [], hidden_one, into_hidden (heap_with (Names ghost) Existing true), into_hidden (heap_with Null Existing true), looks_at_hidden),
)

-- This is computed and left to do, over these objects.
abbrev doing : (operands : List Value) → (control : List (Frame Value)) → List Object → State
doing operands control heap = record {
  activations = record { procedure = None; places = []; operands = operands } ∷ [];
  masters = [];
  control = control;
  mode = Running;
  input = [];
  next = 0;
  allocated = 3;
  born = 0;
  heap = heap;
}

-- So it is where the components of the first object hold this.
abbrev holding : (operands : List Value) → (control : List (Frame Value)) → (first second : Value) → State
holding operands control v u =
    doing operands control
    (an_object (v ∷ u ∷ []) Existing true ∷ an_object (Names holder ∷ []) Existing true ∷ an_object (Null ∷ []) Existing true ∷ [])

-- A component of it becomes null next.
abbrev storing : (component : ℕ) → State
storing c = holding (Null ∷ []) (frame.StoresIn (Names holder) c ∷ []) (Names other) (Names ghost)

writes_shown : WritesShown [] [] hidden_one (storing 0) holder 0
unfolding next
writes_shown = record {
  unwritten = refl;
  is_shown = refl;
  beside = (1, Names ghost, refl, refl);
  writes = record {
    goes_on = (Followed (Names holder), holding [] [] Null (Names ghost), refl);
    before = (Names other, refl);
    behind = (Null, refl);
    differs = λ e. absurd (cc);
  };
}

writes_hidden : WritesHidden [] [] hidden_one (storing 1) holder 1
unfolding next
writes_hidden = record {
  is_hidden = refl;
  writes = record {
    goes_on = (Followed (Names holder), holding [] [] (Names other) Null, refl);
    before = (Names ghost, refl);
    behind = (Null, refl);
    differs = λ e. absurd (cc);
  };
}

pub writes_beside : WritesBeside
writes_beside = (([], [], hidden_one, storing 0, holder, 0, writes_shown), ([], [], hidden_one, storing 1, holder, 1, writes_hidden))

abbrev cell_access : ComponentKind
cell_access = component.Access (record { 0 = 1 })

-- type Cell; type Cell_Access is access Cell; type Cell is record Left, Right : Cell_Access; end record
abbrev cells : List TypeDefinition
cells =
    definition.Record no_name
    (vec (component_of (part.Elementary cell_access) 0 0 ∷ component_of (part.Elementary cell_access) 1 0 ∷ []) (omega arith))
    (vec (cell_access ∷ cell_access ∷ []) (omega arith))
    None
    ∷ definition.Access no_name (record { 0 = 0 }) None
    ∷ []

-- A record lies in the first object behind its hidden second component, and holds this; another one lies there behind it.
abbrev records_with : (hidden left right : Value) → Stage → Bool → List Object
records_with hidden left right stage there =
    an_object (Null ∷ hidden ∷ left ∷ right ∷ Names holder ∷ Names other ∷ []) Existing true
    ∷ an_object (Null ∷ []) Existing true
    ∷ an_object (Null ∷ []) stage there
    ∷ []

-- The second one is copied over the first one: it is read, and both of its components are stored.
abbrev copying : List Object → State
copying heap = doing (Names holder ∷ []) (frame.Copies 4 0 ∷ frame.Fills [] ∷ frame.StoresRecord (Names holder) 2 2 ∷ []) heap

-- Its components are the newest operands then, and no item is left.
abbrev copied : List Object → State
copied heap = doing (Names other ∷ Names holder ∷ []) (frame.Fills [] ∷ frame.StoresRecord (Names holder) 2 2 ∷ []) heap

-- They are stored next.
abbrev storing_both : List Object → State
storing_both heap = doing (Names other ∷ Names holder ∷ []) (frame.StoresRecord (Names holder) 2 2 ∷ []) heap

-- The one state holds the name of a ghost in the hidden component, and the ghost exists; the other one holds null there, and it is gone.
abbrev one_with : (left right : Value) → List Object
one_with left right = records_with (Names ghost) left right Existing true

abbrev other_with : (left right : Value) → List Object
other_with left right = records_with Null left right Gone false

records_alike : (left right : Value) → HeapsAlike hidden_one one_ghost (one_with left right) (other_with left right)
records_alike left right = record { count = refl; objects = λ o. under o.0 }
  where
    under : (i : ℕ) → FoundAlike (hidden_one (record { 0 = i })) (one_ghost (record { 0 = i })) (slice_get (one_with left right) i) (slice_get (other_with left right) i)
    under zero = record { values = beside Null (Names ghost) Null (left ∷ right ∷ Names holder ∷ Names other ∷ []); cell = refl; listed = refl; life = refl }
    under (suc zero) = itself (hidden_one other) (an_object (Null ∷ []) Existing true)
    under (suc (suc zero)) = gone_or_not (hidden_one ghost) (Null ∷ []) Existing Gone true false
    under (suc (suc (suc i))) = tt

-- Both states take these steps.
copies_record : (hidden : Value) (stage : Stage) (there : Bool)
    → CopiesRecord cells [] holder holder 4 2 0 (copying (records_with hidden Null Null stage there)) (doing [] [] (records_with hidden (Names holder) (Names other) stage there))
unfolding next
copies_record hidden stage there = record {
  runs = refl;
  copies = refl;
  operand = refl;
  read = copied (records_with hidden Null Null stage there);
  ready = storing_both (records_with hidden Null Null stage there);
  reads = refl;
  evaluates = refl;
  stores = refl;
}

-- No component of either record is hidden.
shown_source : AreShown hidden_one (Names holder) 4 2
shown_source zero below = refl
shown_source (suc zero) below = refl
shown_source (suc (suc i)) below = absurd (omega (arith, below))

shown_target : AreShown hidden_one (Names holder) 2 2
shown_target zero below = refl
shown_target (suc zero) below = refl
shown_target (suc (suc i)) below = absurd (omega (arith, below))

copies_with : CopiesBeside cells [] hidden_one one_ghost (copying (one_with Null Null)) (copying (other_with Null Null))
    (doing [] [] (one_with (Names holder) (Names other))) (doing [] [] (other_with (Names holder) (Names other)))
unfolding copies_record
copies_with = record {
  source = holder;
  target = holder;
  first = 4;
  to = 2;
  record_type = 0;
  copies = copies_record (Names ghost) Existing true;
  copies_too = copies_record Null Gone false;
  beside = (((refl, shown_source), tt), (tt, tt), (refl, shown_target));
  ghost = (ghost, record { is_ghost = refl; differs = λ e. absurd (cc) }, record { is_ghost = refl; differs = λ e. absurd (cc) });
  source_differs = (1, record { is_hidden = refl; differs = λ e. absurd (cc) });
  stays = (1, record { is_hidden = refl; differs = λ e. absurd (cc) }, (Names ghost, refl, refl), (Null, refl, refl));
  changes = (0, omega arith, (Null, Names holder, refl, refl, λ e. absurd (cc)), (Null, Names holder, refl, refl, λ e. absurd (cc)));
  alike = record { rest = refl; heaps = records_alike Null Null };
  alike_once_read = record { rest = refl; heaps = records_alike Null Null };
  alike_once_ready = record { rest = refl; heaps = records_alike Null Null };
  alike_behind = record { rest = refl; heaps = records_alike (Names holder) (Names other) };
}

pub copies_beside : RecordsAreCopiedBeside
copies_beside = (
  cells,
  [],
  hidden_one,
  one_ghost,
  copying (one_with Null Null),
  copying (other_with Null Null),
  doing [] [] (one_with (Names holder) (Names other)),
  doing [] [] (other_with (Names holder) (Names other)),
  copies_with,
)

-- The first object names the second one, which is past, and in which this lies.
abbrev past_with : Value → List Object
past_with v = an_object (Names other ∷ []) Existing true ∷ an_object (v ∷ []) Gone false ∷ []

past_alike : HeapsButForPast (past_with Null) (past_with (Names holder))
past_alike = record { count = refl; objects = λ o. under o.0 }
  where
    under : (i : ℕ) → SameOrPast (slice_get (past_with Null) i) (slice_get (past_with (Names holder)) i)
    under zero = inl refl
    under (suc zero) = inr (refl, refl)
    under (suc (suc i)) = inl refl

follows_past : FollowsPast [] [] other 0 (before (past_with Null)) (before (past_with (Names holder))) (after (past_with Null)) (after (past_with (Names holder)))
unfolding next
follows_past = record {
  differ = record { alike = record { rest = refl; heaps = past_alike }; differs = λ e. absurd (cc) };
  followed = holder;
  follows = refl;
  follows_too = refl;
  finds = refl;
  differ_behind = record { alike = record { rest = refl; heaps = past_alike }; differs = λ e. absurd (cc) };
  ends = refl;
  ends_too = refl;
}

-- An object with this trace number that is gone, and whose words are still out: they go back next.
abbrev lent_still : (number : ℕ) → Object
lent_still number = record {
  cell = record { access = 0; number = number; home = record { item = 0; pool = Some 0; subpool = None }; values = []; parts = [] };
  stage = Gone;
  listed = false;
  out = true;
}

abbrev giving_back : (number : ℕ) → State
giving_back number = doing [] (frame.GivesBack (Names holder) (Freeing 0) (Some 0) ∷ []) (lent_still number ∷ [])

told_apart : NextBy HeapsButForPast (λ event. Unit {0}) (next [] [] (giving_back 1)) (next [] [] (giving_back 2)) → ⊥
unfolding next
told_apart p = let same = p.1 in absurd (cc same)

gives_back_differing : GivesBackDiffering [] [] (giving_back 1) (giving_back 2) holder (lent_still 1) (lent_still 2)
gives_back_differing = record {
  rest = refl;
  others = λ p. elsewhere p.0;
  found = refl;
  found_too = refl;
  same_life = refl;
  gone = (refl, refl);
  out = refl;
  goes_apart = told_apart;
}
  where
    elsewhere : (i : ℕ) → i ≢ 0 → slice_get (lent_still 2 ∷ []) i ≡ slice_get (lent_still 1 ∷ []) i
    elsewhere zero ne = absurd (ne refl)
    elsewhere (suc i) ne = refl

pub past_objects_differ : PastObjectsDiffer
past_objects_differ = (
  ([], [], other, 0, before (past_with Null), before (past_with (Names holder)), after (past_with Null), after (past_with (Names holder)), follows_past),
  ([], [], giving_back 1, giving_back 2, holder, lent_still 1, lent_still 2, gives_back_differing),
)
