-- Runs end, and never wait for a pick among none.

use Rattle.std.proofs.Common.{◌≡◌, ℕ, zero, suc, ◌+◌, ◌*◌, ◌<◌, ◌≤◌, Bool, true, false, List, [], ◌∷◌, ◌++◌, length, refl, sym, ap, subst, arith}
use Rattle.std.specs.Prelude.{Option, Some, None, if◌then◌else◌}
use Rattle.std.specs.List.{All, remove, slice_get, sum_by}
use Rattle.std.proofs.Math.Nat.{mul-le-mul_left}
use Rattle.std.proofs.lemmas.List.Sums.{sum_by-cons}
use Rattle.ada_parts.specs.declared.tasks.Component.{Component}
use Rattle.ada_parts.specs.declared.tasks.Direction.{Direction}
use Rattle.ada_parts.specs.declared.tasks.Direction.TheVariants.{PartsFirst, WholeFirst}
use Rattle.ada_parts.specs.declared.tasks.Next.{Next}
use Rattle.ada_parts.specs.declared.tasks.Next.TheVariants.{Done, Pick, Perform}
use Rattle.ada_parts.specs.Shape.{Shape, IsTable, own_parts, parts_of, shape_of}
use Rattle.ada_parts.specs.Part.{Part, in_order, components_of}
use Rattle.ada_parts.specs.Task.{Task, performs, treats, treatment_of, operation_of, opened, next, without, open_at, taken, performed, IsOpen, OfComponents}
use Rattle.ada_parts.specs.Law.{Run, here, picks, calls}
use Rattle.ada_parts.proofs.Facts.{all_head, all_tail, all_contained}
use Rattle.ada_parts.proofs.Tables.{parts_step}
use Rattle.ada_parts.proofs.Held.{of_open}
use Rattle.ada_parts.proofs.Runs.{call_is, opens, taken_open, kept_picked, kept_called, Known, known_closed}

-- At most so many steps are left.
abbrev type_weight : List Shape → ℕ → ℕ
type_weight shapes t = 1 + parts_of shapes t * (t + 1)

abbrev pub weight : List Shape → List Task → ℕ
weight shapes [] = 0
weight shapes (treats cs ∷ ts) = sum_by (λ c. type_weight shapes c.of) cs + weight shapes ts
weight shapes (performs of part ∷ ts) = 1 + weight shapes ts

weight_append : (shapes : List Shape) (a b : List Task) → weight shapes (a ++ b) ≡ weight shapes a + weight shapes b
weight_append shapes [] b = omega arith
weight_append shapes (treats cs ∷ a) b = let e = weight_append shapes a b in omega (arith, e)
weight_append shapes (performs of part ∷ a) b = let e = weight_append shapes a b in omega (arith, e)

weight_treatment : (shapes : List Shape) (cs : List Component) → weight shapes (treatment_of cs) ≡ sum_by (λ (c : Component). type_weight shapes c.of) cs
weight_treatment shapes [] = refl
weight_treatment shapes (c ∷ cs) = omega arith

weight_operation : (shapes : List Shape) (s : Shape) (of first : ℕ) → weight shapes (operation_of s of first) ≡ own_parts s
weight_operation shapes s of first = go s.controlled
  where
    go : (b : Bool) → weight shapes (if b then performs of first ∷ [] else []) ≡ (if b then 1 else 0)
    go true = refl
    go false = refl

order_weight : (f : ℕ → ℕ) (g : ℕ → ℕ) (ts : List ℕ) (p : ℕ) → sum_by (λ (c : Component). g c.of) (in_order f ts p) ≡ sum_by g ts
order_weight f g [] p = refl
order_weight f g (t ∷ ts) p =
    let a = sum_by-cons (λ (c : Component). g c.of) (record { of = t; first = p }) (in_order f ts (p + f t)) in
    let b = sum_by-cons g t ts in
    let e = order_weight f g ts (p + f t) in
    omega (arith, a, b, e)

-- The components of a type take no more steps than it may.
types_weight : (shapes : List Shape) (n : ℕ) (ts : List ℕ) → All (λ t. (t < n) × (0 < parts_of shapes t)) ts → sum_by (type_weight shapes) ts ≤ sum_by (parts_of shapes) ts * (n + 1)
types_weight shapes n [] all = omega arith
types_weight shapes n (t ∷ ts) all =
    let head = all_head (λ t. (t < n) × (0 < parts_of shapes t)) t ts all in
    let a = sum_by-cons (type_weight shapes) t ts in
    let b = sum_by-cons (parts_of shapes) t ts in
    let more = types_weight shapes n ts (all_tail (λ t. (t < n) × (0 < parts_of shapes t)) t ts all) in
    let m = mul-le-mul_left {m = t + 1} {n = n} (parts_of shapes t) (let l = head.0 in omega (arith, l)) in
    one (parts_of shapes t) t n (sum_by (type_weight shapes) ts) (sum_by (parts_of shapes) ts) (sum_by (type_weight shapes) (t ∷ ts)) (sum_by (parts_of shapes) (t ∷ ts)) a b more m head.1
  where
    one : (p t n w s w' s' : ℕ) → w' ≡ 1 + p * (t + 1) + w → s' ≡ p + s → w ≤ s * (n + 1) → p * (t + 1) ≤ p * n → 0 < p → w' ≤ s' * (n + 1)
    one p t n w s w' s' a b more m some = subst (λ (x : ℕ). w' ≤ x * (n + 1)) (sym b) (omega (arith, a, more, m, some))

opened_weight : (shapes : List Shape) (d : Direction) (of first : ℕ) → IsTable shapes → of < length shapes → weight shapes (opened shapes d of first) ≤ parts_of shapes of * (of + 1)
opened_weight shapes d of first table lt =
    let s = shape_of shapes of in
    let cs = components_of shapes of first in
    let step = parts_step shapes of table lt in
    let all = all_contained (λ t. (t < of) × (0 < parts_of shapes t)) s.components (λ t has. (table.earlier of t lt has, table.have_parts of t lt has)) in
    let w = types_weight shapes of s.components all in
    let e = order_weight (parts_of shapes) (type_weight shapes) s.components (first + own_parts s) in
    let sum : weight shapes (opened shapes d of first) ≡ own_parts s + sum_by (type_weight shapes) s.components = total d e in
    subst (λ (x : ℕ). weight shapes (opened shapes d of first) ≤ x * (of + 1)) (sym step) (omega (arith, sum, w))
  where
    total : (d : Direction) → sum_by (λ (c : Component). type_weight shapes c.of) (components_of shapes of first) ≡ sum_by (type_weight shapes) (shape_of shapes of).components → weight shapes (opened shapes d of first) ≡ own_parts (shape_of shapes of) + sum_by (type_weight shapes) (shape_of shapes of).components
    total PartsFirst e =
        let a = weight_append shapes (treatment_of (components_of shapes of first)) (operation_of (shape_of shapes of) of first) in
        let b = weight_treatment shapes (components_of shapes of first) in
        let c = weight_operation shapes (shape_of shapes of) of first in
        omega (arith, a, b, c, e)
    total WholeFirst e =
        let a = weight_append shapes (operation_of (shape_of shapes of) of first) (treatment_of (components_of shapes of first)) in
        let b = weight_treatment shapes (components_of shapes of first) in
        let c = weight_operation shapes (shape_of shapes of) of first in
        omega (arith, a, b, c, e)

abbrev or_zero : (Component → ℕ) → Option Component → ℕ
or_zero f None = 0
or_zero f (Some c) = f c

sum_picked : (f : Component → ℕ) (cs : List Component) (i : ℕ) (c : Component) → slice_get cs i ≡ Some c → sum_by f cs ≡ f c + sum_by f (remove cs i)
sum_picked f [] i c e = absurd (cc e)
sum_picked f (d ∷ cs) zero c e =
    let a = sum_by-cons f d cs in
    let same = ap (or_zero f) e in
    omega (arith, a, same)
sum_picked f (d ∷ cs) (suc i) c e =
    let a = sum_by-cons f d cs in
    let b = sum_by-cons f d (remove cs i) in
    let more = sum_picked f cs i c e in
    omega (arith, a, b, more)

without_weight : (shapes : List Shape) (left : List Task) (i : ℕ) (c : Component) → open_at left i ≡ Some c → weight shapes left ≡ type_weight shapes c.of + weight shapes (without left i)
without_weight shapes [] i c e = absurd (cc e)
without_weight shapes (performs of part ∷ ts) i c e = absurd (cc e)
without_weight shapes (treats cs ∷ ts) i c e =
    let a = sum_picked (λ (c : Component). type_weight shapes c.of) cs i c e in
    let b = weight_append shapes (treatment_of (remove cs i)) ts in
    let t = weight_treatment shapes (remove cs i) in
    omega (arith, a, b, t)

taken_weight : (shapes : List Shape) (d : Direction) (left : List Task) (i : ℕ) → IsTable shapes → IsOpen left i → OfComponents (Known shapes) left → 1 + weight shapes (taken shapes d left i) ≤ weight shapes left
taken_weight shapes d left i table h all =
    let o = opens left i h in
    let c = o.component in
    let a = ap (weight shapes) (taken_open shapes d left i c o.is) in
    let b = weight_append shapes (opened shapes d c.of c.first) (without left i) in
    let w = opened_weight shapes d c.of c.first table (of_open (Known shapes) left i c all o.is) in
    let e = without_weight shapes left i c o.is in
    omega (arith, a, b, w, e)

called_weight : (shapes : List Shape) (left : List Task) (of part : ℕ) → next left ≡ Perform of part → 1 + weight shapes (performed left) ≤ weight shapes left
called_weight shapes left of part e =
    let w = ap (weight shapes) (call_is left of part e) in
    omega (arith, w)

run_weight : (shapes : List Shape) (d : Direction) → IsTable shapes → {left last : List Task} {steps : ℕ} {done : List Part} → Run shapes d left steps done last → OfComponents (Known shapes) left → steps + weight shapes last ≤ weight shapes left
run_weight shapes d table here all = omega arith
run_weight shapes d table (picks {left} i h run) all =
    let w = taken_weight shapes d left i table h all in
    let more = run_weight shapes d table run (kept_picked shapes d (Known shapes) (known_closed shapes table) left i h all) in
    omega (arith, w, more)
run_weight shapes d table (calls {left} of part e run) all =
    let w = called_weight shapes left of part e in
    let more = run_weight shapes d table run (kept_called (Known shapes) left all) in
    omega (arith, w, more)

pub it_ends : (shapes : List Shape) (d : Direction) (of first : ℕ) → IsTable shapes → of < length shapes → {last : List Task} {steps : ℕ} {done : List Part} → Run shapes d (opened shapes d of first) steps done last → OfComponents (Known shapes) (opened shapes d of first) → steps ≤ parts_of shapes of * (of + 1)
it_ends shapes d of first table lt run all =
    let w = run_weight shapes d table run all in
    let o = opened_weight shapes d of first table lt in
    omega (arith, w, o)

-- No task treats nothing.
abbrev Filled : List Task → Type 0
Filled [] = Unit {0}
Filled (treats cs ∷ ts) = (0 < length cs) × Filled ts
Filled (performs of part ∷ ts) = Filled ts

filled_append : (a b : List Task) → Filled a → Filled b → Filled (a ++ b)
filled_append [] b x y = y
filled_append (treats cs ∷ a) b x y = (x.0, filled_append a b x.1 y)
filled_append (performs of part ∷ a) b x y = filled_append a b x y

filled_treatment : (cs : List Component) → Filled (treatment_of cs)
filled_treatment [] = tt
filled_treatment (c ∷ cs) = (omega arith, tt)

filled_operation : (s : Shape) (of first : ℕ) → Filled (operation_of s of first)
filled_operation s of first = go s.controlled
  where
    go : (b : Bool) → Filled (if b then performs of first ∷ [] else [])
    go true = tt
    go false = tt

pub filled_opened : (shapes : List Shape) (d : Direction) (of first : ℕ) → Filled (opened shapes d of first)
filled_opened shapes PartsFirst of first =
    filled_append (treatment_of (components_of shapes of first)) (operation_of (shape_of shapes of) of first) (filled_treatment (components_of shapes of first)) (filled_operation (shape_of shapes of) of first)
filled_opened shapes WholeFirst of first =
    filled_append (operation_of (shape_of shapes of) of first) (treatment_of (components_of shapes of first)) (filled_operation (shape_of shapes of) of first) (filled_treatment (components_of shapes of first))

filled_without : (left : List Task) (i : ℕ) → Filled left → Filled (without left i)
filled_without [] i x = tt
filled_without (performs of part ∷ ts) i x = x
filled_without (treats cs ∷ ts) i x = filled_append (treatment_of (remove cs i)) ts (filled_treatment (remove cs i)) x.1

filled_picked : (shapes : List Shape) (d : Direction) (left : List Task) (i : ℕ) → IsOpen left i → Filled left → Filled (taken shapes d left i)
filled_picked shapes d left i h x =
    let o = opens left i h in
    let c = o.component in
    subst Filled (sym (taken_open shapes d left i c o.is)) (filled_append (opened shapes d c.of c.first) (without left i) (filled_opened shapes d c.of c.first) (filled_without left i x))

filled_called : (left : List Task) → Filled left → Filled (performed left)
filled_called [] x = tt
filled_called (treats cs ∷ ts) x = x
filled_called (performs of part ∷ ts) x = x

filled_run : (shapes : List Shape) (d : Direction) → {left last : List Task} {steps : ℕ} {done : List Part} → Run shapes d left steps done last → Filled left → Filled last
filled_run shapes d here x = x
filled_run shapes d (picks {left} i h run) x = filled_run shapes d run (filled_picked shapes d left i h x)
filled_run shapes d (calls {left} of part e run) x = filled_run shapes d run (filled_called left x)

abbrev count_in : Next → ℕ
count_in Done = 0
count_in (Pick n) = n
count_in (Perform of part) = 0

filled_next : (left : List Task) (n : ℕ) → Filled left → next left ≡ Pick n → 0 < n
filled_next [] n x e = absurd (cc e)
filled_next (performs of part ∷ ts) n x e = absurd (cc e)
filled_next (treats cs ∷ ts) n x e = let m = ap count_in e in let some = x.0 in omega (arith, m, some)

pub there_is_one : (shapes : List Shape) (d : Direction) (of first : ℕ) {last : List Task} {steps : ℕ} {done : List Part} → Run shapes d (opened shapes d of first) steps done last → (n : ℕ) → next last ≡ Pick n → 0 < n
there_is_one shapes d of first {last} run n e = filled_next last n (filled_run shapes d run (filled_opened shapes d of first)) e
