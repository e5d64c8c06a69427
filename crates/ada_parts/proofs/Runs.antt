-- What each run of a treatment keeps: which parts are left, and how many steps.

use Rattle.std.proofs.Common.{◌≡◌, ℕ, zero, suc, ◌+◌, ◌<◌, Bool, true, false, List, [], ◌∷◌, ◌++◌, length, refl, sym, ap, ◌∙◌, subst, arith, append_assoc}
use Rattle.std.specs.Prelude.{Option, Some, None, if◌then◌else◌}
use Rattle.std.specs.List.{All, flat_map, remove, slice_get}
use Rattle.std.specs.List.Sorted.{IsPermutation}
use Rattle.std.proofs.lemmas.List.{append-nil}
use Rattle.std.proofs.lemmas.List.Sorted.{IsPermutation-refl, IsPermutation-cons, IsPermutation-trans, IsPermutation-append_left, IsPermutation-append_right, IsPermutation-append_comm}
use Rattle.ada_parts.specs.declared.tasks.Component.{Component}
use Rattle.ada_parts.specs.declared.tasks.Direction.{Direction}
use Rattle.ada_parts.specs.declared.tasks.Direction.TheVariants.{PartsFirst, WholeFirst}
use Rattle.ada_parts.specs.declared.tasks.Next.{Next}
use Rattle.ada_parts.specs.declared.tasks.Next.TheVariants.{Done, Pick, Perform}
use Rattle.ada_parts.specs.Shape.{Shape, IsTable, own_parts, parts_of, shape_of}
use Rattle.ada_parts.specs.Part.{Part, components_of, own_part, parts_at}
use Rattle.ada_parts.specs.Task.{Task, performs, treats, treatment_of, operation_of, opened, opened_if, next, without, open_at, taken, performed, IsOpen, OfComponents}
use Rattle.ada_parts.specs.Law.{Run, here, picks, calls, parts_in, parts_left}
use Rattle.ada_parts.proofs.Tables.{at_step, order_types}
use Rattle.ada_parts.proofs.Held.{known_components, of_append, of_opened, of_without, of_open}

-- What comes next tells what is left.
abbrev pub part_next : Next → Part
part_next Done = record { of = 0; number = 0 }
part_next (Pick n) = record { of = 0; number = 0 }
part_next (Perform of part) = record { of = of; number = part }

pub call_is : (left : List Task) (of part : ℕ) → next left ≡ Perform of part → left ≡ performs of part ∷ performed left
call_is [] of part e = absurd (cc e)
call_is (treats cs ∷ ts) of part e = absurd (cc e)
call_is (performs u q ∷ ts) of part e = ap (λ (p : Part). performs p.of p.number ∷ ts) (ap part_next e)

pub record Opens (left : List Task) (i : ℕ) : Type 0 where
  pub component : Component
  pub is : open_at left i ≡ Some component

get_some : {X : Type 0} (xs : List X) (i : ℕ) → i < length xs → (x : X) × (slice_get xs i ≡ Some x)
get_some [] i lt = absurd (omega (arith, lt))
get_some (x ∷ xs) zero lt = (x, refl)
get_some (x ∷ xs) (suc i) lt = get_some xs i (omega (arith, lt))

pub opens : (left : List Task) (i : ℕ) → IsOpen left i → Opens left i
opens [] i h = absurd h
opens (performs of part ∷ ts) i h = absurd h
opens (treats cs ∷ ts) i h = let s = get_some cs i h in record { component = s.0; is = s.1 }

pub taken_open : (shapes : List Shape) (d : Direction) (left : List Task) (i : ℕ) (c : Component) → open_at left i ≡ Some c → taken shapes d left i ≡ opened shapes d c.of c.first ++ without left i
taken_open shapes d left i c e = ap (λ (x : Option Component). opened_if shapes d x ++ without left i) e

-- A fact that the components of a component have where it does holds of all that are left, at any step.
pub Closed : List Shape → (Component → Type 0) → Type 0
Closed shapes P = (c : Component) → P c → All P (components_of shapes c.of c.first)

pub kept_picked : (shapes : List Shape) (d : Direction) (P : Component → Type 0) → Closed shapes P → (left : List Task) (i : ℕ) → IsOpen left i → OfComponents P left → OfComponents P (taken shapes d left i)
unfolding Closed
kept_picked shapes d P closed left i h all =
    let o = opens left i h in
    let c = o.component in
    subst (OfComponents P) (sym (taken_open shapes d left i c o.is))
    (of_append P (opened shapes d c.of c.first) (without left i) (of_opened P shapes d c.of c.first (closed c (of_open P left i c all o.is))) (of_without P left i all))

pub kept_called : (P : Component → Type 0) (left : List Task) → OfComponents P left → OfComponents P (performed left)
kept_called P [] all = tt
kept_called P (treats cs ∷ ts) all = all
kept_called P (performs of part ∷ ts) all = all

pub kept : (shapes : List Shape) (d : Direction) (P : Component → Type 0) → Closed shapes P → {left last : List Task} {steps : ℕ} {done : List Part} → Run shapes d left steps done last → OfComponents P left → OfComponents P last
kept shapes d P closed here all = all
kept shapes d P closed (picks {left} i h run) all = kept shapes d P closed run (kept_picked shapes d P closed left i h all)
kept shapes d P closed (calls {left} of part e run) all = kept shapes d P closed run (kept_called P left all)

-- The types of all components are in the table.
abbrev pub Known : List Shape → Component → Type 0
Known shapes c = c.of < length shapes

pub known_closed : (shapes : List Shape) → IsTable shapes → Closed shapes (Known shapes)
unfolding Closed
known_closed shapes table c lt =
    let all = known_components shapes c.of table lt in
    order_types (Known shapes) (parts_of shapes) (shape_of shapes c.of).components (c.first + own_parts (shape_of shapes c.of)) (λ k d h q. all k d h)

pub known_opened : (shapes : List Shape) (d : Direction) (of first : ℕ) → IsTable shapes → of < length shapes → OfComponents (Known shapes) (opened shapes d of first)
unfolding Closed
known_opened shapes d of first table lt = of_opened (Known shapes) shapes d of first (known_closed shapes table (record { of = of; first = first }) lt)

-- The parts of what is left, together and one after another.
pub left_append : (shapes : List Shape) (a b : List Task) → parts_left shapes (a ++ b) ≡ parts_left shapes a ++ parts_left shapes b
left_append shapes [] b = refl
left_append shapes (treats cs ∷ a) b =
    ap (λ (ps : List Part). parts_in shapes cs ++ ps) (left_append shapes a b) ∙ sym (append_assoc (parts_in shapes cs) (parts_left shapes a) (parts_left shapes b))
left_append shapes (performs of part ∷ a) b = ap (λ (ps : List Part). record { of = of; number = part } ∷ ps) (left_append shapes a b)

pub left_treatment : (shapes : List Shape) (cs : List Component) → parts_left shapes (treatment_of cs) ≡ parts_in shapes cs
left_treatment shapes [] = refl
left_treatment shapes (c ∷ cs) = append-nil (parts_in shapes (c ∷ cs))

pub left_operation : (shapes : List Shape) (s : Shape) (of first : ℕ) → parts_left shapes (operation_of s of first) ≡ own_part s of first
left_operation shapes s of first = go s.controlled
  where
    go : (b : Bool) → parts_left shapes (if b then performs of first ∷ [] else []) ≡ (if b then record { of = of; number = first } ∷ [] else [])
    go true = refl
    go false = refl

pub left_opened : (shapes : List Shape) (d : Direction) (of first : ℕ) → IsTable shapes → of < length shapes → IsPermutation (parts_at shapes of first) (parts_left shapes (opened shapes d of first))
left_opened shapes WholeFirst of first table lt =
    let s = shape_of shapes of in
    let cs = components_of shapes of first in
    let e : parts_at shapes of first ≡ parts_left shapes (opened shapes WholeFirst of first) =
    at_step shapes of first table lt
    ∙ ap (λ (ps : List Part). ps ++ parts_in shapes cs) (sym (left_operation shapes s of first))
    ∙ ap (λ (ps : List Part). parts_left shapes (operation_of s of first) ++ ps) (sym (left_treatment shapes cs))
    ∙ sym (left_append shapes (operation_of s of first) (treatment_of cs)) in
    subst (IsPermutation (parts_at shapes of first)) e (IsPermutation-refl (parts_at shapes of first))
left_opened shapes PartsFirst of first table lt =
    let s = shape_of shapes of in
    let cs = components_of shapes of first in
    let e : parts_left shapes (opened shapes PartsFirst of first) ≡ parts_in shapes cs ++ own_part s of first =
    left_append shapes (treatment_of cs) (operation_of s of first)
    ∙ ap (λ (ps : List Part). ps ++ parts_left shapes (operation_of s of first)) (left_treatment shapes cs)
    ∙ ap (λ (ps : List Part). parts_in shapes cs ++ ps) (left_operation shapes s of first) in
    subst (λ (ps : List Part). IsPermutation ps (parts_left shapes (opened shapes PartsFirst of first))) (sym (at_step shapes of first table lt))
    (subst (IsPermutation (own_part s of first ++ parts_in shapes cs)) (sym e) (IsPermutation-append_comm (own_part s of first) (parts_in shapes cs)))

-- One of several comes first, and the others behind it.
pub picked_first : {X Y : Type 0} (f : X → List Y) (xs : List X) (i : ℕ) (x : X) → slice_get xs i ≡ Some x → IsPermutation (flat_map f xs) (f x ++ flat_map f (remove xs i))
picked_first f [] i x e = absurd (cc e)
picked_first {X} {Y} f (y ∷ ys) zero x e = subst (λ (z : Option X). First z) e (IsPermutation-refl (f y ++ flat_map f ys))
  where
    First : Option X → Type 0
    First None = Unit {0}
    First (Some z) = IsPermutation (f y ++ flat_map f ys) (f z ++ flat_map f ys)
picked_first {X} {Y} f (y ∷ ys) (suc i) x e =
    let rest = flat_map f (remove ys i) in
    let a = IsPermutation-append_right (f y) (flat_map f ys) (f x ++ rest) (picked_first f ys i x e) in
    let b = IsPermutation-append_left rest (f y ++ f x) (f x ++ f y) (IsPermutation-append_comm (f y) (f x)) in
    let c = subst (λ (zs : List Y). IsPermutation zs (f x ++ f y ++ rest)) (append_assoc (f y) (f x) rest) b in
    let d = subst (IsPermutation (f y ++ (f x ++ rest))) (append_assoc (f x) (f y) rest) c in
    IsPermutation-trans (f y ++ flat_map f ys) (f y ++ (f x ++ rest)) (f x ++ (f y ++ rest)) a d

-- What is left is what is open, and what is left beside it.
pub left_without : (shapes : List Shape) (left : List Task) (i : ℕ) (c : Component) → open_at left i ≡ Some c → IsPermutation (parts_left shapes left) (parts_at shapes c.of c.first ++ parts_left shapes (without left i))
left_without shapes [] i c e = absurd (cc e)
left_without shapes (performs of part ∷ ts) i c e = absurd (cc e)
left_without shapes (treats cs ∷ ts) i c e =
    let f : Component → List Part = λ x. parts_at shapes x.of x.first in
    let ps = parts_left shapes ts in
    let a = IsPermutation-append_left ps (flat_map f cs) (f c ++ flat_map f (remove cs i)) (picked_first f cs i c e) in
    let s : parts_left shapes (treatment_of (remove cs i) ++ ts) ≡ flat_map f (remove cs i) ++ ps =
    left_append shapes (treatment_of (remove cs i)) ts ∙ ap (λ (qs : List Part). qs ++ ps) (left_treatment shapes (remove cs i)) in
    subst (IsPermutation (flat_map f cs ++ ps)) (append_assoc (f c) (flat_map f (remove cs i)) ps ∙ ap (λ (qs : List Part). f c ++ qs) (sym s)) a

-- A pick changes the order of what is left.
pub left_taken : (shapes : List Shape) (d : Direction) (left : List Task) (i : ℕ) → IsTable shapes → IsOpen left i → OfComponents (Known shapes) left → IsPermutation (parts_left shapes left) (parts_left shapes (taken shapes d left i))
left_taken shapes d left i table h all =
    let o = opens left i h in
    let c = o.component in
    let a = left_without shapes left i c o.is in
    let b = IsPermutation-append_left (parts_left shapes (without left i)) (parts_at shapes c.of c.first) (parts_left shapes (opened shapes d c.of c.first)) (left_opened shapes d c.of c.first table (of_open (Known shapes) left i c all o.is)) in
    let e : parts_left shapes (taken shapes d left i) ≡ parts_left shapes (opened shapes d c.of c.first) ++ parts_left shapes (without left i) =
    ap (parts_left shapes) (taken_open shapes d left i c o.is) ∙ left_append shapes (opened shapes d c.of c.first) (without left i) in
    subst (IsPermutation (parts_left shapes left)) (sym e)
    (IsPermutation-trans (parts_left shapes left) (parts_at shapes c.of c.first ++ parts_left shapes (without left i)) (parts_left shapes (opened shapes d c.of c.first) ++ parts_left shapes (without left i)) a b)

-- The calls of a run, and what it leaves, are what was left.
pub each_once : (shapes : List Shape) (d : Direction) → IsTable shapes → {left last : List Task} {steps : ℕ} {done : List Part} → Run shapes d left steps done last → OfComponents (Known shapes) left → IsPermutation (parts_left shapes left) (done ++ parts_left shapes last)
each_once shapes d table (here {left}) all = IsPermutation-refl (parts_left shapes left)
each_once shapes d table {last} {done} (picks {left} i h run) all =
    IsPermutation-trans (parts_left shapes left) (parts_left shapes (taken shapes d left i)) (done ++ parts_left shapes last)
    (left_taken shapes d left i table h all)
    (each_once shapes d table run (kept_picked shapes d (Known shapes) (known_closed shapes table) left i h all))
each_once shapes d table {last} (calls {left} {later} of part e run) all =
    let p : Part = record { of = of; number = part } in
    subst (λ (ts : List Task). IsPermutation (parts_left shapes ts) (p ∷ (later ++ parts_left shapes last))) (sym (call_is left of part e))
    (IsPermutation-cons p (parts_left shapes (performed left)) (later ++ parts_left shapes last) (each_once shapes d table run (kept_called (Known shapes) left all)))
