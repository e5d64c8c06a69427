-- What the treatment of an object costs: the same in either order, no more than its type says, and no more once a component is picked.

use Rattle.std.proofs.Common.{◌≡◌, ◌≢◌, ℕ, ◌+◌, ◌<◌, ◌≤◌, Bool, if◌then◌else◌, List, [], ◌∷◌, ◌++◌, length, Option, Some, None, refl, sym, ap, ◌∙◌, inl, inr, arith, true, false}
use Rattle.std.specs.List.{remove, sum_by}
use Rattle.std.proofs.lemmas.Bool.{cases_lt}
use Rattle.std.proofs.lemmas.Bool.Decides.{eqb_tells}
use Rattle.std.proofs.lemmas.List.Sums.{sum_by-cons}
use Rattle.ada_program.specs.declared.program.TypeDefinition.{TypeDefinition}
use Rattle.ada_program.specs.Controlled.{number_of, number_reached, shapes_of}
use Rattle.ada_parts.specs.declared.tasks.Component.{Component}
use Rattle.ada_parts.specs.declared.tasks.Direction.{Direction}
use Rattle.ada_parts.specs.declared.tasks.Direction.TheVariants.{PartsFirst, WholeFirst}
use Rattle.ada_parts.specs.Shape.{Shape, IsTable, own_parts, parts_of, shape_of}
use Rattle.ada_parts.specs.Part.{Part, components_of}
use Rattle.ada_parts.specs.Task.{Task, performs, treats, treatment_of, operation_of, opened, opened_if, taken}
use Rattle.ada_parts.proofs.Facts.{eq_self, eq_not, all_contained, sum_same}
use Rattle.ada_parts.proofs.Tables.{shape_newest, shape_older, table_older}
use Rattle.ada_meaning.specs.Step.{member_at, picked_task, tasks_for, tasks_in, all_tasks, record_tasks}
use Rattle.ada_meaning.specs.Pace.{own_cost, record_cost, cost_of_any, cost_for, tasks_cost, done_cost, treatment_operations}
use Rattle.ada_meaning.proofs.Treatments.{are_table, shape_unknown, order_steps, sum_picked, get_some, member_within}

-- The lemmas, for a program with these types, and where the calls of operations cost so much.
module _ (types : List TypeDefinition) (cost : (of : ℕ) → ℕ) where
  -- What the treatment of a record costs by its shape, where that of its components is known.
  abbrev cost_by : (ℕ → ℕ) → Shape → (of : ℕ) → ℕ
  cost_by costs s of = own_cost types cost s of + sum_by costs s.components

  cost_newest :
      (s : Shape) (older : List Shape)
      → record_cost types cost (s ∷ older) (length older) ≡ cost_by (record_cost types cost older) s (length older)
  cost_newest s older =
      ap (λ (b : Bool). if b then cost_by (record_cost types cost older) s (length older) else record_cost types cost older (length older)) (eq_self (length older))

  cost_older : (s : Shape) (older : List Shape) (t : ℕ) → t ≢ length older → record_cost types cost (s ∷ older) t ≡ record_cost types cost older t
  cost_older s older t ne =
      ap (λ (b : Bool). if b then cost_by (record_cost types cost older) s t else record_cost types cost older t) (eq_not t (length older) ne)

  -- What a record of a type costs, by its shape.
  cost_open :
      (shapes : List Shape) (t : ℕ) → IsTable shapes → t < length shapes
      → record_cost types cost shapes t ≡ cost_by (record_cost types cost shapes) (shape_of shapes t) t
  cost_open [] t table lt = absurd (omega (arith, lt))
  cost_open (s ∷ older) t table lt = elim (eqb_tells t (length older)) [ inl h ↦ newest h.1 | inr h ↦ old h.1 (cost_open older t (table_older s older table)) ]
    where
      newer :
          (u : ℕ) → u < length (s ∷ older)
          → cost_by (record_cost types cost older) (shape_of (s ∷ older) u) u ≡ cost_by (record_cost types cost (s ∷ older)) (shape_of (s ∷ older) u) u
      newer u less =
          let x = shape_of (s ∷ older) u in
          let alike = all_contained (λ c. record_cost types cost older c ≡ record_cost types cost (s ∷ older) c) x.components
          (λ c has. let l = table.earlier u c less has in sym (cost_older s older c (λ e. omega (arith, e, l, less)))) in
          ap (λ (n : ℕ). own_cost types cost x u + n) (sum_same (record_cost types cost older) (record_cost types cost (s ∷ older)) x.components alike)

      newest : t ≡ length older → record_cost types cost (s ∷ older) t ≡ cost_by (record_cost types cost (s ∷ older)) (shape_of (s ∷ older) t) t
      newest e =
          ap (record_cost types cost (s ∷ older)) e ∙ cost_newest s older
          ∙ ap (cost_by (record_cost types cost older) s) (sym e)
          ∙ ap (λ (x : Shape). cost_by (record_cost types cost older) x t) (sym (ap (shape_of (s ∷ older)) e ∙ shape_newest s older))
          ∙ newer t lt

      old :
          t ≢ length older → (t < length older → record_cost types cost older t ≡ cost_by (record_cost types cost older) (shape_of older t) t)
          → record_cost types cost (s ∷ older) t ≡ cost_by (record_cost types cost (s ∷ older)) (shape_of (s ∷ older) t) t
      old ne again =
          let less : t < length older = omega (arith, lt, ne) in
          cost_older s older t ne ∙ again less
          ∙ ap (λ (x : Shape). cost_by (record_cost types cost older) x t) (sym (shape_older s older t ne)) ∙ newer t lt

  -- No type costs more than all together.
  cost_any : (shapes : List Shape) (t : ℕ) → record_cost types cost shapes t ≤ cost_of_any types cost shapes
  cost_any [] t = omega arith
  cost_any (s ∷ older) t = elim (eqb_tells t (length older)) [ inl h ↦ newest h.1 | inr h ↦ old h.1 (cost_any older t) ]
    where
      newest : t ≡ length older → record_cost types cost (s ∷ older) t ≤ cost_of_any types cost (s ∷ older)
      newest e = let is = ap (record_cost types cost (s ∷ older)) e ∙ cost_newest s older in omega (arith, is)

      old : t ≢ length older → record_cost types cost older t ≤ cost_of_any types cost older → record_cost types cost (s ∷ older) t ≤ cost_of_any types cost (s ∷ older)
      old ne less = let is = cost_older s older t ne in omega (arith, is, less)

  -- Tasks together, and one after another.
  tasks_together : (a b : List Task) → tasks_cost types cost (a ++ b) ≡ tasks_cost types cost a + tasks_cost types cost b
  tasks_together [] b = omega arith
  tasks_together (treats cs ∷ a) b = let e = tasks_together a b in omega (arith, e)
  tasks_together (performs of part ∷ a) b = let e = tasks_together a b in omega (arith, e)

  treatment_costs :
      (cs : List Component) → tasks_cost types cost (treatment_of cs) ≡ sum_by (λ (c : Component). record_cost types cost (shapes_of types) c.of) cs
  treatment_costs [] = refl
  treatment_costs (c ∷ cs) = omega arith

  operation_costs : (s : Shape) (of first : ℕ) → tasks_cost types cost (operation_of s of first) ≡ own_cost types cost s of
  operation_costs s of first = go s.controlled
    where
      go : (b : Bool) → tasks_cost types cost (if b then performs of first ∷ [] else []) ≡ (if b then cost of else 0)
      go true = omega arith
      go false = refl

  -- All that is to be done for a record, in either order.
  opened_by :
      (d : Direction) (of first : ℕ)
      → tasks_cost types cost (opened (shapes_of types) d of first)
      ≡ cost_by (record_cost types cost (shapes_of types)) (shape_of (shapes_of types) of) of
  opened_by d of first = total d
    where
      shapes : List Shape
      shapes = shapes_of types

      inner : sum_by (λ (c : Component). record_cost types cost shapes c.of) (components_of shapes of first)
          ≡ sum_by (record_cost types cost shapes) (shape_of shapes of).components
      inner = order_steps (parts_of shapes) (record_cost types cost shapes) (shape_of shapes of).components (first + own_parts (shape_of shapes of))

      total :
          (d : Direction) → tasks_cost types cost (opened shapes d of first) ≡ cost_by (record_cost types cost shapes) (shape_of shapes of) of
      total PartsFirst =
          let a = tasks_together (treatment_of (components_of shapes of first)) (operation_of (shape_of shapes of) of first) in
          let b = treatment_costs (components_of shapes of first) in
          let c = operation_costs (shape_of shapes of) of first in
          let e = inner in
          omega (arith, a, b, c, e)
      total WholeFirst =
          let a = tasks_together (operation_of (shape_of shapes of) of first) (treatment_of (components_of shapes of first)) in
          let b = treatment_costs (components_of shapes of first) in
          let c = operation_costs (shape_of shapes of) of first in
          let e = inner in
          omega (arith, a, b, c, e)

  opened_cost :
      (d : Direction) (of first : ℕ) → tasks_cost types cost (opened (shapes_of types) d of first) ≤ record_cost types cost (shapes_of types) of
  opened_cost d of first = elim (cases_lt of (length (shapes_of types))) [ inl lt ↦ known lt | inr le ↦ unknown le ]
    where
      shapes : List Shape
      shapes = shapes_of types

      known : of < length shapes → tasks_cost types cost (opened shapes d of first) ≤ record_cost types cost shapes of
      known lt =
          let a = opened_by d of first in
          let b = cost_open shapes of (are_table types) lt in
          omega (arith, a, b)

      unknown : length shapes ≤ of → tasks_cost types cost (opened shapes d of first) ≤ record_cost types cost shapes of
      unknown le =
          let a = opened_by d of first in
          let b = ap (λ (x : Shape). cost_by (record_cost types cost shapes) x of) (shape_unknown shapes of le) in
          omega (arith, a, b)

  -- The treatment of an object costs no more than its type says, in either order.
  pub tasks_within : (access : ℕ) (d : Direction) → tasks_cost types cost (all_tasks types access d) ≤ treatment_operations types cost access
  tasks_within access d = go (number_reached types access)
    where
      go : (number : Option ℕ) → tasks_cost types cost (tasks_for (shapes_of types) d number) ≤ cost_for types cost (shapes_of types) number
      go None = omega arith
      go (Some n) = opened_cost d n 0

  -- And no more than that of any record.
  pub treatment_within : (access : ℕ) → treatment_operations types cost access ≤ cost_of_any types cost (shapes_of types)
  treatment_within access = go (number_reached types access)
    where
      go : (number : Option ℕ) → cost_for types cost (shapes_of types) number ≤ cost_of_any types cost (shapes_of types)
      go None = omega arith
      go (Some n) = cost_any (shapes_of types) n

  -- So it is with a record in an object, wherever it lies.
  pub record_within :
      (t : ℕ) (d : Direction) (first : ℕ)
      → tasks_cost types cost (record_tasks types t d first) ≤ cost_for types cost (shapes_of types) (number_of types (Some t))
  record_within t d first = go (number_of types (Some t))
    where
      go : (number : Option ℕ) → tasks_cost types cost (tasks_in (shapes_of types) d number first) ≤ cost_for types cost (shapes_of types) number
      go None = omega arith
      go (Some n) = opened_cost d n first

  taken_within :
      (d : Direction) (cs : List Component) (behind : List Task) (i : ℕ) → i < length cs
      → tasks_cost types cost (taken (shapes_of types) d (treats cs ∷ behind) i) ≤ tasks_cost types cost (treats cs ∷ behind)
  taken_within d cs behind i lt =
      let shapes = shapes_of types in
      let found = get_some cs i lt in
      let c = found.0 in
      let is = ap (λ (x : Option Component). tasks_cost types cost (opened_if shapes d x ++ (treatment_of (remove cs i) ++ behind))) found.1 in
      let front = tasks_together (opened shapes d c.of c.first) (treatment_of (remove cs i) ++ behind) in
      let rest = tasks_together (treatment_of (remove cs i)) behind in
      let others = treatment_costs (remove cs i) in
      let one = opened_cost d c.of c.first in
      let all = sum_picked (λ (x : Component). record_cost types cost shapes x.of) cs i c found.1 in
      omega (arith, is, front, rest, others, one, all)

  -- What is left once a component is picked costs no more.
  pub picked_within :
      (d : Direction) (cs : List Component) (behind : List Task) (i : ℕ) → i < length cs
      → tasks_cost types cost (picked_task (shapes_of types) d (treats cs ∷ behind) i) ≤ tasks_cost types cost (treats cs ∷ behind)
  picked_within d cs behind i lt = taken_within d cs behind (member_at d (length cs) i) (member_within d (length cs) i lt)

  -- One more part that has begun.
  pub done_more : (p : Part) (done : List Part) → done_cost types cost (p ∷ done) ≡ cost p.of + done_cost types cost done
  done_more p done = sum_by-cons (λ (q : Part). cost q.of) p done
