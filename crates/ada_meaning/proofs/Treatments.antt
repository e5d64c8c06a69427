-- The types of a program are a table, as finalization sees them; and what is left of a treatment weighs less with each step.

use Rattle.std.proofs.Common.{◌≡◌, ◌≢◌, ℕ, zero, suc, ◌+◌, ◌<◌, ◌≤◌, ◌⊎◌, Bool, true, false, ◌==◌, if◌then◌else◌, List, [], ◌∷◌, ◌++◌, length, Option, Some, None, refl, sym, ap, ◌∙◌, inl, inr, arith}
use Rattle.std.specs.Prelude.{count_by}
use Rattle.std.specs.List.{All, remove, slice_get, sum_by}
use Rattle.std.proofs.lemmas.Bool.{cases_lt}
use Rattle.std.proofs.lemmas.Bool.Decides.{eqb_tells}
use Rattle.std.proofs.lemmas.List.Elements.{All-append}
use Rattle.std.proofs.lemmas.List.Sums.{sum_by-cons}
use Rattle.ada_program.specs.declared.program.Part.{Part}
use Rattle.ada_program.specs.declared.program.PartKind.{PartKind}
use Rattle.ada_program.specs.declared.program.PartKind.TheVariants as part
use Rattle.ada_program.specs.declared.program.TypeDefinition.{TypeDefinition}
use Rattle.ada_program.specs.Controlled.{number_of, number_reached, type_numbered, parts_by, if_parts, with_parts, components_with_parts, shape_by, shapes_up_to, has_parts, shapes_of}
use Rattle.ada_parts.specs.declared.tasks.Component.{Component}
use Rattle.ada_parts.specs.declared.tasks.Direction.{Direction}
use Rattle.ada_parts.specs.declared.tasks.Direction.TheVariants.{PartsFirst, WholeFirst}
use Rattle.ada_parts.specs.declared.tasks.Next.TheVariants.{Pick}
use Rattle.ada_parts.specs.Shape.{Shape, IsTable, own_parts, parts_of, shape_of}
use Rattle.ada_parts.specs.Part.{in_order, components_of}
use Rattle.ada_parts.specs.Task.{Task, performs, treats, treatment_of, operation_of, opened, opened_if, taken, IsOpen, next as task_next}
use Rattle.ada_parts.proofs.Facts.{eq_self, eq_not, all_cons, all_none, all_contained, sum_same}
use Rattle.ada_parts.proofs.Tables.{shape_newest, shape_older, parts_older, table_older}
use Rattle.ada_parts.proofs.Held.{table_newer}
use Rattle.ada_meaning.specs.declared.state.Value.{Value}
use Rattle.ada_meaning.specs.Frame.{Frame, Treatment}
use Rattle.ada_meaning.specs.Step.{open_count, member_at, picked_task, tasks_for, tasks_in, all_tasks, record_tasks, treating}
use Rattle.ada_meaning.specs.Ending.{steps_of, steps_of_any, steps_for, record_steps, tasks_weight, treatment_weight, run_weight}

-- Only a type of the table has parts.
parts_known : (shapes : List Shape) (t : ℕ) → 0 < parts_of shapes t → t < length shapes
parts_known [] t some = absurd (omega (arith, some))
parts_known (s ∷ older) t some = elim (eqb_tells t (length older)) [ inl h ↦ newest h.1 | inr h ↦ old h.1 (parts_known older t) ]
  where
    newest : t ≡ length older → t < length (s ∷ older)
    newest e = omega (arith, e)

    old : t ≢ length older → (0 < parts_of older t → t < length older) → t < length (s ∷ older)
    old ne again =
        let e = parts_older s older t ne in
        let less = again (omega (arith, e, some)) in
        omega (arith, less)

-- A component counts only where it is of an earlier type that has parts.
abbrev pub HasParts : List Shape → ℕ → Type 0
HasParts older t = (t < length older) × (0 < parts_of older t)

some_parts : (older : List Shape) (t : ℕ) (none : Bool) → (parts_of older t == 0) ≡ none → All (HasParts older) (if none then [] else t ∷ [])
some_parts older t true is = all_none (HasParts older)
some_parts older t false is =
    let some = more (eqb_tells (parts_of older t) 0) in
    all_cons (HasParts older) t [] (parts_known older t some, some) (all_none (HasParts older))
  where
    more : (((parts_of older t == 0) ≡ true) × (parts_of older t ≡ 0)) ⊎ (((parts_of older t == 0) ≡ false) × (parts_of older t ≢ 0)) → 0 < parts_of older t
    more (inl h) = let never : true ≡ false = sym h.0 ∙ is in absurd (cc)
    more (inr h) = let ne = h.1 in omega (arith, ne)

if_some : (older : List Shape) (number : Option ℕ) → All (HasParts older) (if_parts older number)
if_some older None = all_none (HasParts older)
if_some older (Some n) = some_parts older n (parts_of older n == 0) refl

with_some : (types : List TypeDefinition) (older : List Shape) (kind : PartKind) → All (HasParts older) (with_parts types older kind)
with_some types older (part.Elementary kind) = all_none (HasParts older)
with_some types older (part.Record t) = if_some older (number_of types (Some t.0))
with_some types older part.Parent = all_none (HasParts older)

pub components_some : (types : List TypeDefinition) (older : List Shape) (ps : List Part) → All (HasParts older) (components_with_parts types older ps)
components_some types older [] = all_none (HasParts older)
components_some types older (p ∷ ps) =
    All-append (HasParts older) (with_parts types older p.kind) (components_with_parts types older ps) (with_some types older p.kind)
    (components_some types older ps)

no_table : IsTable []
no_table = record { earlier = λ t c lt has. absurd (omega (arith, lt)); have_parts = λ t c lt has. absurd (omega (arith, lt)) }

table_up_to : (types : List TypeDefinition) (count : ℕ) → IsTable (shapes_up_to types count)
table_up_to types zero = no_table
table_up_to types (suc n) =
    let older = shapes_up_to types n in
    let ps = parts_by (type_numbered types n) in
    table_newer (shape_by types older ps) older (table_up_to types n) (components_some types older ps)

-- The types of any program are a table.
pub are_table : (types : List TypeDefinition) → IsTable (shapes_of types)
are_table types = table_up_to types (count_by has_parts types)

-- What is not in the table has no components.
pub shape_unknown : (shapes : List Shape) (t : ℕ) → length shapes ≤ t → shape_of shapes t ≡ record { controlled = false; components = [] }
shape_unknown [] t le = refl
shape_unknown (s ∷ older) t le = shape_older s older t (λ e. omega (arith, e, le)) ∙ shape_unknown older t (omega (arith, le))

-- The steps that a shape takes, where those of its components are known.
abbrev steps_by : (ℕ → ℕ) → Shape → ℕ
steps_by steps s = own_parts s + sum_by (λ c. 1 + steps c) s.components

steps_newest : (s : Shape) (older : List Shape) → steps_of (s ∷ older) (length older) ≡ steps_by (steps_of older) s
steps_newest s older =
    ap (λ (b : Bool). if b then steps_by (steps_of older) s else steps_of older (length older)) (eq_self (length older))

steps_older : (s : Shape) (older : List Shape) (t : ℕ) → t ≢ length older → steps_of (s ∷ older) t ≡ steps_of older t
steps_older s older t ne =
    ap (λ (b : Bool). if b then steps_by (steps_of older) s else steps_of older t) (eq_not t (length older) ne)

-- The steps of a type, by its shape.
steps_open : (shapes : List Shape) (t : ℕ) → IsTable shapes → t < length shapes → steps_of shapes t ≡ steps_by (steps_of shapes) (shape_of shapes t)
steps_open [] t table lt = absurd (omega (arith, lt))
steps_open (s ∷ older) t table lt = elim (eqb_tells t (length older)) [ inl h ↦ newest h.1 | inr h ↦ old h.1 (steps_open older t (table_older s older table)) ]
  where
    newer : (u : ℕ) → u < length (s ∷ older) → steps_by (steps_of older) (shape_of (s ∷ older) u) ≡ steps_by (steps_of (s ∷ older)) (shape_of (s ∷ older) u)
    newer u less =
        let x = shape_of (s ∷ older) u in
        let alike = all_contained (λ c. 1 + steps_of older c ≡ 1 + steps_of (s ∷ older) c) x.components
        (λ c has. let l = table.earlier u c less has in ap (λ (n : ℕ). 1 + n) (sym (steps_older s older c (λ e. omega (arith, e, l, less))))) in
        ap (λ (n : ℕ). own_parts x + n) (sum_same (λ c. 1 + steps_of older c) (λ c. 1 + steps_of (s ∷ older) c) x.components alike)

    newest : t ≡ length older → steps_of (s ∷ older) t ≡ steps_by (steps_of (s ∷ older)) (shape_of (s ∷ older) t)
    newest e =
        ap (steps_of (s ∷ older)) e ∙ steps_newest s older
        ∙ ap (steps_by (steps_of older)) (sym (ap (shape_of (s ∷ older)) e ∙ shape_newest s older))
        ∙ newer t lt

    old :
        t ≢ length older → (t < length older → steps_of older t ≡ steps_by (steps_of older) (shape_of older t))
        → steps_of (s ∷ older) t ≡ steps_by (steps_of (s ∷ older)) (shape_of (s ∷ older) t)
    old ne again =
        let less : t < length older = omega (arith, lt, ne) in
        steps_older s older t ne ∙ again less ∙ ap (steps_by (steps_of older)) (sym (shape_older s older t ne)) ∙ newer t lt

-- No type takes more steps than all together.
steps_any : (shapes : List Shape) (t : ℕ) → steps_of shapes t ≤ steps_of_any shapes
steps_any [] t = omega arith
steps_any (s ∷ older) t = elim (eqb_tells t (length older)) [ inl h ↦ newest h.1 | inr h ↦ old h.1 (steps_any older t) ]
  where
    newest : t ≡ length older → steps_of (s ∷ older) t ≤ steps_of_any (s ∷ older)
    newest e = let is = ap (steps_of (s ∷ older)) e ∙ steps_newest s older in omega (arith, is)

    old : t ≢ length older → steps_of older t ≤ steps_of_any older → steps_of (s ∷ older) t ≤ steps_of_any (s ∷ older)
    old ne less = let is = steps_older s older t ne in omega (arith, is, less)

-- Tasks together, and one after another.
tasks_append : (shapes : List Shape) (a b : List Task) → tasks_weight shapes (a ++ b) ≡ tasks_weight shapes a + tasks_weight shapes b
tasks_append shapes [] b = omega arith
tasks_append shapes (treats cs ∷ a) b = let e = tasks_append shapes a b in omega (arith, e)
tasks_append shapes (performs of part ∷ a) b = let e = tasks_append shapes a b in omega (arith, e)

treatment_steps : (shapes : List Shape) (cs : List Component) → tasks_weight shapes (treatment_of cs) ≡ sum_by (λ (c : Component). 1 + steps_of shapes c.of) cs
treatment_steps shapes [] = refl
treatment_steps shapes (c ∷ cs) = omega arith

operation_steps : (shapes : List Shape) (s : Shape) (of first : ℕ) → tasks_weight shapes (operation_of s of first) ≡ own_parts s
operation_steps shapes s of first = go s.controlled
  where
    go : (b : Bool) → tasks_weight shapes (if b then performs of first ∷ [] else []) ≡ (if b then 1 else 0)
    go true = refl
    go false = refl

pub order_steps : (f : ℕ → ℕ) (g : ℕ → ℕ) (ts : List ℕ) (p : ℕ) → sum_by (λ (c : Component). g c.of) (in_order f ts p) ≡ sum_by g ts
order_steps f g [] p = refl
order_steps f g (t ∷ ts) p =
    let a = sum_by-cons (λ (c : Component). g c.of) (record { of = t; first = p }) (in_order f ts (p + f t)) in
    let b = sum_by-cons g t ts in
    let e = order_steps f g ts (p + f t) in
    omega (arith, a, b, e)

-- All that is to be done for a record, in either order.
opened_by :
    (shapes : List Shape) (d : Direction) (of first : ℕ)
    → tasks_weight shapes (opened shapes d of first) ≡ steps_by (steps_of shapes) (shape_of shapes of)
opened_by shapes d of first = total d
  where
    inner : sum_by (λ (c : Component). 1 + steps_of shapes c.of) (components_of shapes of first)
        ≡ sum_by (λ c. 1 + steps_of shapes c) (shape_of shapes of).components
    inner = order_steps (parts_of shapes) (λ c. 1 + steps_of shapes c) (shape_of shapes of).components (first + own_parts (shape_of shapes of))

    total : (d : Direction) → tasks_weight shapes (opened shapes d of first) ≡ steps_by (steps_of shapes) (shape_of shapes of)
    total PartsFirst =
        let a = tasks_append shapes (treatment_of (components_of shapes of first)) (operation_of (shape_of shapes of) of first) in
        let b = treatment_steps shapes (components_of shapes of first) in
        let c = operation_steps shapes (shape_of shapes of) of first in
        let e = inner in
        omega (arith, a, b, c, e)
    total WholeFirst =
        let a = tasks_append shapes (operation_of (shape_of shapes of) of first) (treatment_of (components_of shapes of first)) in
        let b = treatment_steps shapes (components_of shapes of first) in
        let c = operation_steps shapes (shape_of shapes of) of first in
        let e = inner in
        omega (arith, a, b, c, e)

opened_steps : (shapes : List Shape) (d : Direction) (of first : ℕ) → IsTable shapes → tasks_weight shapes (opened shapes d of first) ≤ steps_of shapes of
opened_steps shapes d of first table = elim (cases_lt of (length shapes)) [ inl lt ↦ known lt | inr le ↦ unknown le ]
  where
    known : of < length shapes → tasks_weight shapes (opened shapes d of first) ≤ steps_of shapes of
    known lt =
        let a = opened_by shapes d of first in
        let b = steps_open shapes of table lt in
        omega (arith, a, b)

    unknown : length shapes ≤ of → tasks_weight shapes (opened shapes d of first) ≤ steps_of shapes of
    unknown le =
        let a = opened_by shapes d of first in
        let b = ap (steps_by (steps_of shapes)) (shape_unknown shapes of le) in
        omega (arith, a, b)

-- The treatment of an object weighs the same in either order, and no more than that of any record.
pub tasks_lighter :
    (types : List TypeDefinition) (access : ℕ) (d : Direction)
    → 1 + tasks_weight (shapes_of types) (all_tasks types access d) ≤ treatment_weight types access
tasks_lighter types access d = go (number_reached types access)
  where
    go :
        (number : Option ℕ)
        → 1 + tasks_weight (shapes_of types) (tasks_for (shapes_of types) d number) ≤ 1 + tasks_weight (shapes_of types) (tasks_for (shapes_of types) WholeFirst number)
    go None = omega arith
    go (Some n) =
        let a = opened_by (shapes_of types) d n 0 in
        let b = opened_by (shapes_of types) WholeFirst n 0 in
        omega (arith, a, b)

pub treatment_any : (types : List TypeDefinition) (access : ℕ) → treatment_weight types access ≤ 1 + steps_of_any (shapes_of types)
treatment_any types access = go (number_reached types access)
  where
    go : (number : Option ℕ) → 1 + tasks_weight (shapes_of types) (tasks_for (shapes_of types) WholeFirst number) ≤ 1 + steps_of_any (shapes_of types)
    go None = omega arith
    go (Some n) =
        let a = opened_steps (shapes_of types) WholeFirst n 0 (are_table types) in
        let b = steps_any (shapes_of types) n in
        omega (arith, a, b)

-- The treatment of a record in an object weighs no more than its type says, in either order and wherever it lies.
pub record_lighter :
    (types : List TypeDefinition) (t : ℕ) (d : Direction) (first : ℕ)
    → 1 + tasks_weight (shapes_of types) (record_tasks types t d first) ≤ record_steps types t
record_lighter types t d first = go (number_of types (Some t))
  where
    go :
        (number : Option ℕ)
        → 1 + tasks_weight (shapes_of types) (tasks_in (shapes_of types) d number first) ≤ 1 + steps_for (shapes_of types) number
    go None = omega arith
    go (Some n) = let a = opened_steps (shapes_of types) d n first (are_table types) in omega (arith, a)

-- What is left once a component is picked weighs less.
pub sum_picked : (f : Component → ℕ) (cs : List Component) (i : ℕ) (c : Component) → slice_get cs i ≡ Some c → sum_by f cs ≡ f c + sum_by f (remove cs i)
sum_picked f [] i c e = absurd (cc e)
sum_picked f (d ∷ cs) zero c e =
    let a = sum_by-cons f d cs in
    let same : d ≡ c = cc in
    let alike = ap f same in
    omega (arith, a, alike)
sum_picked f (d ∷ cs) (suc i) c e =
    let a = sum_by-cons f d cs in
    let b = sum_by-cons f d (remove cs i) in
    let more = sum_picked f cs i c e in
    omega (arith, a, b, more)

pub get_some : (cs : List Component) (i : ℕ) → i < length cs → (c : Component) × (slice_get cs i ≡ Some c)
get_some [] i lt = absurd (omega (arith, lt))
get_some (c ∷ cs) zero lt = (c, refl)
get_some (c ∷ cs) (suc i) lt = get_some cs i (omega (arith, lt))

-- The place of a component in either order is that of one of them.
pub member_within : (d : Direction) (count i : ℕ) → i < count → member_at d count i < count
member_within PartsFirst count i lt = lt
member_within WholeFirst count i lt = omega (arith, lt)

-- What can be picked can be picked in either order.
pub member_open : (d : Direction) (tasks : List Task) (i : ℕ) → IsOpen tasks i → IsOpen tasks (member_at d (open_count tasks) i)
member_open d [] i o = o
member_open d (treats cs ∷ behind) i o = member_within d (length cs) i o
member_open d (performs of part ∷ behind) i o = o

-- As many are open as are offered.
pub offered_open : (tasks : List Task) (count : ℕ) → task_next tasks ≡ Pick count → open_count tasks ≡ count
offered_open [] count e = absurd (cc e)
offered_open (treats cs ∷ behind) count e = cc
offered_open (performs of part ∷ behind) count e = absurd (cc e)

taken_lighter :
    (types : List TypeDefinition) (d : Direction) (cs : List Component) (behind : List Task) (i : ℕ) → i < length cs
    → 1 + tasks_weight (shapes_of types) (taken (shapes_of types) d (treats cs ∷ behind) i) ≤ tasks_weight (shapes_of types) (treats cs ∷ behind)
taken_lighter types d cs behind i lt =
    let shapes = shapes_of types in
    let found = get_some cs i lt in
    let c = found.0 in
    let is = ap (λ (x : Option Component). tasks_weight shapes (opened_if shapes d x ++ (treatment_of (remove cs i) ++ behind))) found.1 in
    let front = tasks_append shapes (opened shapes d c.of c.first) (treatment_of (remove cs i) ++ behind) in
    let rest = tasks_append shapes (treatment_of (remove cs i)) behind in
    let others = treatment_steps shapes (remove cs i) in
    let one = opened_steps shapes d c.of c.first (are_table types) in
    let all = sum_picked (λ (x : Component). 1 + steps_of shapes x.of) cs i c found.1 in
    omega (arith, is, front, rest, others, one, all)

-- A treatment in front of what comes behind.
pub treating_weight :
    (types : List TypeDefinition) (v : Value) (treatment : Treatment) (tasks : List Task) (k : List (Frame Value))
    → run_weight types (treating v treatment tasks k) ≤ 1 + tasks_weight (shapes_of types) tasks + run_weight types k
treating_weight types v treatment [] k = omega arith
treating_weight types v treatment (task ∷ tasks) k = omega arith

-- What is left once a component is picked weighs less.
pub picked_lighter :
    (types : List TypeDefinition) (d : Direction) (cs : List Component) (behind : List Task) (i : ℕ) → i < length cs
    → 1 + tasks_weight (shapes_of types) (picked_task (shapes_of types) d (treats cs ∷ behind) i) ≤ tasks_weight (shapes_of types) (treats cs ∷ behind)
picked_lighter types d cs behind i lt = taken_lighter types d cs behind (member_at d (length cs) i) (member_within d (length cs) i lt)
