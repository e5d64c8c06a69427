-- What is left of the adjustment of a record that was copied (7.6), as parts are picked and called: which components are hidden, and what hiding depends on.

use Rattle.std.proofs.Common.{◌≡◌, ◌+◌, ℕ, zero, suc, List, [], ◌∷◌, ◌++◌, Option, Some, None, inl, inr, refl, sym, ap, ◌∙◌, subst, arith}
use Rattle.std.specs.Prelude.{flat_map}
use Rattle.std.specs.List.{Contains, slice_get, slice_set, slice_index_or}
use Rattle.std.specs.List.Sorted.{IsPermutation}
use Rattle.std.proofs.lemmas.Bool.Decides.{eqb_tells}
use Rattle.std.proofs.lemmas.List.{set-set, set_comm}
use Rattle.std.proofs.lemmas.List.Elements.{Contains-append_left, Contains-append_right, Contains-append_cases}
use Rattle.std.proofs.lemmas.List.Sorted.{IsPermutation-sym, Contains-permutation}
use Rattle.ada_parts.specs.declared.tasks.Direction.{Direction}
use Rattle.ada_parts.specs.declared.tasks.Direction.TheVariants.{PartsFirst}
use Rattle.ada_parts.specs.declared.tasks.Next.TheVariants.{Perform}
use Rattle.ada_parts.specs.Law.{Run, here, picks, calls, parts_left}
use Rattle.ada_parts.specs.Part.{Part, parts_at}
use Rattle.ada_parts.specs.Shape.{Shape, IsTable}
use Rattle.ada_parts.specs.Task.{Task, performs, opened, next, taken, performed, IsOpen}
use Rattle.ada_parts.proofs.Runs.{call_is, left_taken}
use Rattle.ada_program.specs.declared.program.Program.{Program}
use Rattle.ada_program.specs.Controlled.{number_of, shapes_of}
use Rattle.ada_program.specs.ProgramForm.{TypeForm, program_form}
use Rattle.ada_program.specs.WellFormed.{IsWellFormed}
use Rattle.ada_program.proofs.Shapes.{same_number}
use Rattle.ada_meaning.specs.declared.state.Id.{Id}
use Rattle.ada_meaning.specs.declared.state.Value.{Value}
use Rattle.ada_meaning.specs.declared.state.Value.TheVariants.{Null}
use Rattle.ada_meaning.specs.Named.{Object, object_at, changed}
use Rattle.ada_meaning.specs.Step.{tasks_in}
use Rattle.ada_meaning.proofs.Treatments.{are_table}
use Rattle.ada_finalized.proofs.Treated.{Treated, parts_from, none_in, cons_cases, record_first, picked, performed as treated_performed}
use Rattle.ada_tracked.specs.Frames.{shifted, watched, blank_values, blank_object, blanked, values_at}
use Rattle.ada_tracked.proofs.Lists.{set_here}
use Rattle.ada_typed.proofs.Parts.{firsts_known, shown_shapes, shapes_shown}
use Rattle.ada_sound.proofs.CopiedOwners.{AreCopied, NamesThere, NameThere, CopyLeft, owners_numbered, part_owners, owners_left, hiding}
use Rattle.ada_sound.proofs.NoneHidden.{shifted_none}

-- What comes first in a list is in it.
pub head_in : {X : Type 0} (x : X) (xs : List X) → Contains (x ∷ xs) x
head_in x xs = (0, omega arith, refl)

-- What is behind that is in it, too.
pub tail_in : {X : Type 0} (x y : X) (xs : List X) → Contains xs y → Contains (x ∷ xs) y
tail_in x y xs (k, lt, is) = (suc k, omega (arith, lt), is)

-- Something is in one of some lists.
pub record InSome {X Y : Type 0} (f : X → List Y) (xs : List X) (y : Y) : Type 0 where
  pub one : X
  pub is_in : Contains xs one
  pub has : Contains (f one) y

-- What is in lists that are put together is in one of them.
pub flat_cases : {X Y : Type 0} (f : X → List Y) (xs : List X) (y : Y) → Contains (flat_map f xs) y → InSome f xs y
flat_cases f [] y has = none_in y has
flat_cases f (x ∷ xs) y has =
    elim (Contains-append_cases (f x) (flat_map f xs) y has) [
      | inl own ↦ record { one = x; is_in = head_in x xs; has = own }
      | inr later ↦ let more = flat_cases f xs y later in record { one = more.one; is_in = tail_in x more.one xs more.is_in; has = more.has }
    ]

-- What is in one of them is in all together.
flat_in : {X Y : Type 0} (f : X → List Y) (xs : List X) (x : X) (y : Y) → Contains xs x → Contains (f x) y → Contains (flat_map f xs) y
flat_in f [] x y is_in has = none_in x is_in
flat_in f (z ∷ xs) x y is_in has =
    elim (cons_cases z x xs is_in) [
      | inl same ↦ Contains-append_left (f z) (flat_map f xs) y (subst (λ u. Contains (f u) y) (sym same) has)
      | inr later ↦ Contains-append_right (f z) (flat_map f xs) y (flat_in f xs x y later has)
    ]

-- A list has all that another one has.
abbrev pub HasAll : List ℕ → List ℕ → Type 0
HasAll bs cs = (c : ℕ) → Contains cs c → Contains bs c

-- Of two lists that have the same, those that are put together of them have the same.
flat_moved :
    {X : Type 0} (f : X → List ℕ) (xs ys : List X) → ((x : X) → Contains ys x → Contains xs x) → HasAll (flat_map f xs) (flat_map f ys)
flat_moved f xs ys moves c has = let some = flat_cases f ys c has in flat_in f xs some.one c (moves some.one some.is_in) some.has

-- Two components become null in either order.
set_swap : (vs : List Value) (b c : ℕ) → slice_set (slice_set vs b Null) c Null ≡ slice_set (slice_set vs c Null) b Null
set_swap vs b c =
    elim (eqb_tells b c) [
      | inl h ↦ subst (λ (d : ℕ). slice_set (slice_set vs b Null) d Null ≡ slice_set (slice_set vs d Null) b Null) h.1 refl
      | inr h ↦ set_comm vs b c Null Null h.1
    ]

-- One becomes null before others or behind them.
blank_set : (bs : List ℕ) (c : ℕ) (vs : List Value) → blank_values bs (slice_set vs c Null) ≡ slice_set (blank_values bs vs) c Null
blank_set [] c vs = refl
blank_set (b ∷ bs) c vs = ap (λ (us : List Value). slice_set us b Null) (blank_set bs c vs) ∙ set_swap (blank_values bs vs) c b

-- Some become null before others or behind them.
blank_swap : (bs cs : List ℕ) (vs : List Value) → blank_values bs (blank_values cs vs) ≡ blank_values cs (blank_values bs vs)
blank_swap bs [] vs = refl
blank_swap bs (c ∷ cs) vs = blank_set bs c (blank_values cs vs) ∙ ap (λ (us : List Value). slice_set us c Null) (blank_swap bs cs vs)

-- A component that is null already stays so.
blank_in : (bs : List ℕ) (c : ℕ) (vs : List Value) → Contains bs c → slice_set (blank_values bs vs) c Null ≡ blank_values bs vs
blank_in [] c vs has = none_in c has
blank_in (b ∷ bs) c vs has =
    elim (cons_cases b c bs has) [
      | inl e ↦
          subst (λ (d : ℕ). slice_set (slice_set (blank_values bs vs) b Null) d Null ≡ slice_set (blank_values bs vs) b Null) e
          (set-set (blank_values bs vs) b Null Null)
      | inr more ↦ set_swap (blank_values bs vs) b c ∙ ap (λ (us : List Value). slice_set us b Null) (blank_in bs c vs more)
    ]

-- Components that are null already stay so.
blank_again : (cs bs : List ℕ) (vs : List Value) → HasAll bs cs → blank_values cs (blank_values bs vs) ≡ blank_values bs vs
blank_again [] bs vs each = refl
blank_again (c ∷ cs) bs vs each =
    ap (λ (us : List Value). slice_set us c Null) (blank_again cs bs vs (λ d has. each d (tail_in c d cs has))) ∙ blank_in bs c vs (each c (head_in c cs))

-- Two lists that have the same components make the same values null.
pub blank_alike : (bs cs : List ℕ) (vs : List Value) → HasAll bs cs → HasAll cs bs → blank_values bs vs ≡ blank_values cs vs
blank_alike bs cs vs there back = sym (blank_again cs bs vs there) ∙ blank_swap cs bs vs ∙ blank_again bs cs vs back

-- Components of two lists become null as those of the second one do, and then those of the first one.
pub blank_append : (bs cs : List ℕ) (vs : List Value) → blank_values (bs ++ cs) vs ≡ blank_values bs (blank_values cs vs)
blank_append [] cs vs = refl
blank_append (b ∷ bs) cs vs = ap (λ (us : List Value). slice_set us b Null) (blank_append bs cs vs)

-- The components that are hidden in an object are those that are watched.
pub watched_hidden : (owners : List ℕ) (o : Id) → watched (hiding owners o) ≡ owners
watched_hidden owners o = shifted_none owners

-- The object of a name is the one that changes, if there is one.
object_blanked : (bs : List ℕ) (o : Id) (heap : List Object) → blanked (hiding bs o) heap ≡ changed (blank_object bs) (object_at heap o) heap o
object_blanked bs o heap = ap (λ (cs : List ℕ). changed (blank_object cs) (object_at heap o) heap o) (shifted_none bs)

-- Two changes that are alike for each object are alike for all of them.
alike_changed :
    (f g : Object → Object) (found : Option Object) (heap : List Object) (o : Id) → ((x : Object) → f x ≡ g x) → changed f found heap o ≡ changed g found heap o
alike_changed f g None heap o each = refl
alike_changed f g (Some x) heap o each = ap (λ (y : Object). slice_set heap o.0 y) (each x)

-- Objects that differ in nothing but values are alike where these are.
with_values : (x : Object) (vs us : List Value) → vs ≡ us → record x { cell = record (x.cell) { values = vs } } ≡ record x { cell = record (x.cell) { values = us } }
with_values x vs us same = ap (λ (ws : List Value). record x { cell = record (x.cell) { values = ws } }) same

-- What is hidden depends on which components are, and not on their order.
pub blanked_alike :
    (bs cs : List ℕ) (o : Id) (heap : List Object) → HasAll bs cs → HasAll cs bs → blanked (hiding bs o) heap ≡ blanked (hiding cs o) heap
blanked_alike bs cs o heap there back =
    object_blanked bs o heap
    ∙ alike_changed (blank_object bs) (blank_object cs) (object_at heap o) heap o
    (λ x. with_values x (blank_values bs x.cell.values) (blank_values cs x.cell.values) (blank_alike bs cs x.cell.values there back))
    ∙ sym (object_blanked cs o heap)

-- An element that is set to what it is stays so.
set_same : {X : Type 0} (xs : List X) (i : ℕ) (x : X) → slice_get xs i ≡ Some x → slice_set xs i x ≡ xs
set_same [] i x at = refl
set_same {X = X} (y ∷ xs) zero x at = let one : y ≡ x = cc at in ap (λ (z : X). z ∷ xs) (sym one)
set_same {X = X} (y ∷ xs) (suc i) x at = ap (λ (zs : List X). y ∷ zs) (set_same xs i x at)

-- Where there is no object, nothing is hidden.
blanked_nothing : (bs : List ℕ) (o : Id) (heap : List Object) → object_at heap o ≡ None → blanked (hiding bs o) heap ≡ heap
blanked_nothing bs o heap is = object_blanked bs o heap ∙ ap (λ (found : Option Object). changed (blank_object bs) found heap o) is

-- Where there is one, it is that one that changes.
blanked_object :
    (bs : List ℕ) (o : Id) (heap : List Object) (x : Object) → object_at heap o ≡ Some x → blanked (hiding bs o) heap ≡ slice_set heap o.0 (blank_object bs x)
blanked_object bs o heap x is = object_blanked bs o heap ∙ ap (λ (found : Option Object). changed (blank_object bs) found heap o) is

-- Components are hidden together, or some of them behind others.
pub blanked_behind : (bs cs : List ℕ) (o : Id) (heap : List Object) → blanked (hiding (bs ++ cs) o) heap ≡ blanked (hiding bs o) (blanked (hiding cs o) heap)
blanked_behind bs cs o heap = go (object_at heap o) refl
  where
    go : (found : Option Object) → object_at heap o ≡ found → blanked (hiding (bs ++ cs) o) heap ≡ blanked (hiding bs o) (blanked (hiding cs o) heap)
    go None is =
        blanked_nothing (bs ++ cs) o heap is
        ∙ sym (ap (λ (h : List Object). blanked (hiding bs o) h) (blanked_nothing cs o heap is) ∙ blanked_nothing bs o heap is)
    go (Some x) is =
        let y = blank_object cs x in
        let left = blanked_object (bs ++ cs) o heap x is
        ∙ ap (λ (z : Object). slice_set heap o.0 z)
        (with_values x (blank_values (bs ++ cs) x.cell.values) (blank_values bs (blank_values cs x.cell.values)) (blank_append bs cs x.cell.values)) in
        let right = ap (λ (h : List Object). blanked (hiding bs o) h) (blanked_object cs o heap x is)
        ∙ blanked_object bs o (slice_set heap o.0 y) y (set_here heap o.0 x y is) ∙ set-set heap o.0 y (blank_object bs y) in
        left ∙ sym right

-- What components hold names what is there, and so does what one of them holds.
names_of :
    (heap : List Object) (bs : List ℕ) (vs : List Value) (b : ℕ) → Contains bs b → NameThere heap (values_at bs vs) → NamesThere heap (slice_index_or vs b Null)
names_of heap [] vs b has there = none_in b has
names_of heap (c ∷ bs) vs b has there =
    elim (cons_cases c b bs has) [
      | inl e ↦ subst (λ (d : ℕ). NamesThere heap (slice_index_or vs d Null)) e there.0
      | inr more ↦ names_of heap bs vs b more there.1
    ]

-- Where it is so of each, it is so of all.
pub names_each :
    (heap : List Object) (bs : List ℕ) (vs : List Value) → ((b : ℕ) → Contains bs b → NamesThere heap (slice_index_or vs b Null)) → NameThere heap (values_at bs vs)
names_each heap [] vs each = tt
names_each heap (b ∷ bs) vs each = (each b (head_in b bs), names_each heap bs vs (λ c has. each c (tail_in b c bs has)))

-- It is so of components that are among others of which it is so.
pub names_alike : (heap : List Object) (bs cs : List ℕ) (vs : List Value) → HasAll bs cs → NameThere heap (values_at bs vs) → NameThere heap (values_at cs vs)
names_alike heap bs cs vs each there = names_each heap cs vs (λ c has. names_of heap bs vs c (each c has) there)

-- Fewer components are those of a copy, too.
none_has : (cs : List ℕ) → HasAll [] cs → cs ≡ []
none_has [] each = refl
none_has (c ∷ cs) each = none_in c (each c (head_in c cs))

pub copied_fewer :
    (types : List TypeForm) (heap : List Object) (o : Id) (r to : ℕ) (bs cs : List ℕ) (vs : List Value) → HasAll bs cs → AreCopied types heap o r to bs vs
    → AreCopied types heap o r to cs vs
copied_fewer types heap o r to bs cs vs each (inl none) = inl (none_has cs (subst (λ (ds : List ℕ). HasAll ds cs) none each))
copied_fewer types heap o r to bs cs vs each (inr copied) = inr (record {
  source = copied.source;
  first = copied.first;
  part = copied.part;
  object = copied.object;
  found = copied.found;
  there = copied.there;
  lies = copied.lies;
  elsewhere = copied.elsewhere;
  holds = λ d p has. copied.holds d p (each (to + d) has);
})

-- In the end nothing is hidden.
pub none_left : (types : List TypeForm) (access : ℕ) → owners_left types access [] ≡ []
none_left types access = refl

-- Before an operation is called, the components of its part are hidden beside those of the parts that are left behind it.
pub owners_first :
    (types : List TypeForm) (access of part : ℕ) (tasks : List Task)
    → owners_left types access (performs of part ∷ tasks) ≡ part_owners types access (record { of = of; number = part }) ++ owners_left types access tasks
owners_first types access of part tasks = refl

-- A part that declares no such component hides none.
pub owners_skipped :
    (types : List TypeForm) (access of part : ℕ) (tasks : List Task) → owners_numbered types of ≡ []
    → owners_left types access (performs of part ∷ tasks) ≡ owners_left types access tasks
owners_skipped types access of part tasks none =
    ap (λ (cs : List ℕ). shifted (slice_index_or (firsts_known types access) part 0) cs ++ owners_left types access tasks) none

-- A treatment picks one component more.
run_picks :
    (shapes : List Shape) (direction : Direction) {left last : List Task} {steps : ℕ} {done : List Part} (i : ℕ) → Run shapes direction left steps done last
    → IsOpen last i → Run shapes direction left (suc steps) done (taken shapes direction last i)
run_picks shapes direction i here ready = picks i ready here
run_picks shapes direction i (picks j before run) ready = picks j before (run_picks shapes direction i run ready)
run_picks shapes direction i (calls of part due run) ready = calls of part due (run_picks shapes direction i run ready)

-- A treatment calls one operation more.
run_calls :
    (shapes : List Shape) (direction : Direction) {left last : List Task} {steps : ℕ} {done : List Part} (of part : ℕ) → Run shapes direction left steps done last
    → next last ≡ Perform of part → Run shapes direction left (suc steps) (done ++ record { of = of; number = part } ∷ []) (performed last)
run_calls shapes direction of part here due = calls of part due here
run_calls shapes direction of part (picks j before run) due = picks j before (run_calls shapes direction of part run due)
run_calls shapes direction of part (calls of_first part_first due_first run) due =
    calls of_first part_first due_first (run_calls shapes direction of part run due)

-- What is left of the adjustment of a copy goes on where a component is picked.
pub left_picked :
    (types : List TypeForm) (access r : ℕ) (tasks : List Task) → CopyLeft types access r tasks → (i : ℕ) → IsOpen tasks i
    → CopyLeft types access r (taken (shown_shapes types) PartsFirst tasks i)
left_picked types access r tasks l i ready = record {
  of = l.of;
  first = l.first;
  part = l.part;
  steps = suc l.steps;
  calls = l.calls;
  numbered = l.numbered;
  lies = l.lies;
  sees = l.sees;
  run = run_picks (shown_shapes types) PartsFirst i l.run ready;
}

-- It goes on where an operation is called.
pub picked_first :
    (types : List TypeForm) (access r : ℕ) (tasks : List Task) (l : CopyLeft types access r tasks) (i : ℕ) (ready : IsOpen tasks i)
    → (left_picked types access r tasks l i ready).first ≡ l.first
unfolding left_picked
picked_first types access r tasks l i ready = refl

pub left_called :
    (types : List TypeForm) (access r : ℕ) (tasks : List Task) → CopyLeft types access r tasks → (of part : ℕ) → next tasks ≡ Perform of part
    → CopyLeft types access r (performed tasks)
left_called types access r tasks l of part due = record {
  of = l.of;
  first = l.first;
  part = l.part;
  steps = suc l.steps;
  calls = l.calls ++ record { of = of; number = part } ∷ [];
  numbered = l.numbered;
  lies = l.lies;
  sees = l.sees;
  run = run_calls (shown_shapes types) PartsFirst of part l.run due;
}

pub called_first :
    (types : List TypeForm) (access r : ℕ) (tasks : List Task) (l : CopyLeft types access r tasks) (of part : ℕ) (due : next tasks ≡ Perform of part)
    → (left_called types access r tasks l of part due).first ≡ l.first
unfolding left_called
called_first types access r tasks l of part due = refl

module _ (program : Program) (well : IsWellFormed (program_form program)) where
  abbrev types : List TypeForm
  types = (program_form program).types

  -- The types of a program are a table, by what is shown of them.
  pub shapes_table : IsTable (shown_shapes types)
  shapes_table = subst IsTable (sym (shapes_shown program.types.items types refl)) (are_table program.types.items)

  -- A treatment goes on.
  treated_on :
      {left last : List Task} {steps : ℕ} {done : List Part} (all called : List Part) → Run (shown_shapes types) PartsFirst left steps done last
      → Treated (shown_shapes types) PartsFirst all called left → (now : List Part) × Treated (shown_shapes types) PartsFirst all now last
  treated_on all called here t = (called, t)
  treated_on all called (picks {left} i ready run) t =
      treated_on all called run (picked (shown_shapes types) PartsFirst all called left i shapes_table ready t)
  treated_on all called (calls {left} of part due run) t =
      let p : Part = record { of = of; number = part } in
      let first = subst (λ (ts : List Task). Treated (shown_shapes types) PartsFirst all called ts) (call_is left of part due) t in
      treated_on all (p ∷ called) run (treated_performed (shown_shapes types) PartsFirst all called p (performed left) first)

  -- What was called of the copy, and what is left, are its parts.
  pub treated_left :
      (access r : ℕ) (tasks : List Task) (l : CopyLeft types access r tasks)
      → (called : List Part) × Treated (shown_shapes types) PartsFirst (parts_at (shown_shapes types) l.of l.part) called tasks
  treated_left access r tasks l =
      let items = program.types.items in
      let number : number_of items (Some r) ≡ Some l.of = same_number items r ∙ l.numbered in
      let start = record_first items PartsFirst r l.part in
      let known = subst (λ (o : Option ℕ). Treated (shapes_of items) PartsFirst (parts_from (shapes_of items) o l.part) [] (tasks_in (shapes_of items) PartsFirst o l.part)) number start in
      let shown = subst (λ (shapes : List Shape). Treated shapes PartsFirst (parts_at shapes l.of l.part) [] (opened shapes PartsFirst l.of l.part)) (sym (shapes_shown items types refl)) known in
      treated_on (parts_at (shown_shapes types) l.of l.part) [] l.run shown

  -- A pick changes the order of what is left alone.
  left_permuted :
      (access r : ℕ) (tasks : List Task) → CopyLeft types access r tasks → (i : ℕ) → IsOpen tasks i
      → IsPermutation (parts_left (shown_shapes types) tasks) (parts_left (shown_shapes types) (taken (shown_shapes types) PartsFirst tasks i))
  left_permuted access r tasks l i ready =
      let t = treated_left access r tasks l in
      left_taken (shown_shapes types) PartsFirst tasks i shapes_table ready t.1.known

  -- What was hidden before a pick is hidden behind it.
  pub hidden_still :
      (access r : ℕ) (tasks : List Task) → CopyLeft types access r tasks → (i : ℕ) → IsOpen tasks i
      → HasAll (owners_left types access (taken (shown_shapes types) PartsFirst tasks i)) (owners_left types access tasks)
  hidden_still access r tasks l i ready =
      let before = parts_left (shown_shapes types) tasks in
      let after = parts_left (shown_shapes types) (taken (shown_shapes types) PartsFirst tasks i) in
      flat_moved (part_owners types access) after before (λ p has. Contains-permutation before after p (left_permuted access r tasks l i ready) has)

  -- What is hidden behind a pick was hidden before it.
  pub hidden_before :
      (access r : ℕ) (tasks : List Task) → CopyLeft types access r tasks → (i : ℕ) → IsOpen tasks i
      → HasAll (owners_left types access tasks) (owners_left types access (taken (shown_shapes types) PartsFirst tasks i))
  hidden_before access r tasks l i ready =
      let before = parts_left (shown_shapes types) tasks in
      let after = parts_left (shown_shapes types) (taken (shown_shapes types) PartsFirst tasks i) in
      flat_moved (part_owners types access) before after
      (λ p has. Contains-permutation after before p (IsPermutation-sym before after (left_permuted access r tasks l i ready)) has)

  -- So a pick hides nothing more and nothing less.
  pub same_hidden :
      (access r : ℕ) (tasks : List Task) → CopyLeft types access r tasks → (i : ℕ) → IsOpen tasks i → (o : Id) (heap : List Object)
      → blanked (hiding (owners_left types access (taken (shown_shapes types) PartsFirst tasks i)) o) heap
      ≡ blanked (hiding (owners_left types access tasks) o) heap
  same_hidden access r tasks l i ready o heap =
      blanked_alike (owners_left types access (taken (shown_shapes types) PartsFirst tasks i)) (owners_left types access tasks) o heap
      (hidden_still access r tasks l i ready) (hidden_before access r tasks l i ready)

  -- What the hidden components hold names what is there, behind a pick as before it.
  pub same_named :
      (access r : ℕ) (tasks : List Task) → CopyLeft types access r tasks → (i : ℕ) → IsOpen tasks i → (heap : List Object) (vs : List Value)
      → NameThere heap (values_at (owners_left types access tasks) vs)
      → NameThere heap (values_at (owners_left types access (taken (shown_shapes types) PartsFirst tasks i)) vs)
  same_named access r tasks l i ready heap vs there =
      names_alike heap (owners_left types access tasks) (owners_left types access (taken (shown_shapes types) PartsFirst tasks i)) vs
      (hidden_before access r tasks l i ready) there

  -- Nor do they come from elsewhere.
  pub same_copied :
      (access r : ℕ) (tasks : List Task) → CopyLeft types access r tasks → (i : ℕ) → IsOpen tasks i → (heap : List Object) (o : Id) (to : ℕ) (vs : List Value)
      → AreCopied types heap o r to (owners_left types access tasks) vs
      → AreCopied types heap o r to (owners_left types access (taken (shown_shapes types) PartsFirst tasks i)) vs
  same_copied access r tasks l i ready heap o to vs copied =
      copied_fewer types heap o r to (owners_left types access tasks) (owners_left types access (taken (shown_shapes types) PartsFirst tasks i)) vs
      (hidden_before access r tasks l i ready) copied
