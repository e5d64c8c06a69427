-- The order of the calls: parts first, or wholes first.

use Rattle.std.proofs.Common.{◌≡◌, ℕ, ◌<◌, Bool, true, false, List, [], ◌∷◌, ◌++◌, length, refl, sym, ap, ◌∙◌, inl, inr, subst, append_assoc}
use Rattle.std.specs.Prelude.{Some, if◌then◌else◌}
use Rattle.std.specs.List.{Contains, remove}
use Rattle.std.specs.List.Sorted.{IsPermutation}
use Rattle.std.proofs.lemmas.List.{map-append, append-nil}
use Rattle.std.proofs.lemmas.List.Elements.{Contains-append_left, Contains-append_right, Contains-append_cases}
use Rattle.std.proofs.lemmas.List.Sorted.{IsPermutation-map, Contains-permutation}
use Rattle.ada_parts.specs.declared.tasks.Component.{Component}
use Rattle.ada_parts.specs.declared.tasks.Direction.TheVariants.{PartsFirst, WholeFirst}
use Rattle.ada_parts.specs.Shape.{Shape, IsTable, shape_of}
use Rattle.ada_parts.specs.Part.{Part, components_of, parts_at, numbers}
use Rattle.ada_parts.specs.Task.{Task, performs, treats, treatment_of, operation_of, opened, without, open_at, taken, performed, IsOpen, OfComponents}
use Rattle.ada_parts.specs.Law.{Run, here, picks, calls, parts_in, parts_left, Among, InsideOut, OutsideIn}
use Rattle.ada_parts.proofs.Held.{of_open}
use Rattle.ada_parts.proofs.Numbers.{inside}
use Rattle.ada_parts.proofs.Runs.{call_is, opens, taken_open, kept_picked, kept_called, Known, known_closed, left_append, left_treatment, left_opened, left_without, each_once}

-- Each number of these parts is one of those.
Within : List Part → List Part → Type 0
Within a b = (q : ℕ) → Contains (numbers a) q → Contains (numbers b) q

within_permutation : (a b : List Part) → IsPermutation a b → Within a b
unfolding Within
within_permutation a b p q has = Contains-permutation (numbers a) (numbers b) q (IsPermutation-map (λ (x : Part). x.number) a b p) has

within_left : (a b : List Part) → Within a (a ++ b)
unfolding Within
within_left a b q has = subst (λ (xs : List ℕ). Contains xs q) (sym (map-append (λ (x : Part). x.number) a b)) (Contains-append_left (numbers a) (numbers b) q has)

within_right : (a b : List Part) → Within b (a ++ b)
unfolding Within
within_right a b q has = subst (λ (xs : List ℕ). Contains xs q) (sym (map-append (λ (x : Part). x.number) a b)) (Contains-append_right (numbers a) (numbers b) q has)

within_both : (a b c : List Part) → Within a c → Within b c → Within (a ++ b) c
unfolding Within
within_both a b c x y q has =
    elim (Contains-append_cases (numbers a) (numbers b) q (subst (λ (xs : List ℕ). Contains xs q) (map-append (λ (x : Part). x.number) a b) has)) [ inl h ↦ x q h | inr h ↦ y q h ]

within_then : (a b c : List Part) → Within a b → Within b c → Within a c
unfolding Within
within_then a b c x y q has = y q (x q has)

among_within : (shapes : List Shape) (a b : List Part) (whole : Part) → Within a b → Among shapes a whole → Among shapes b whole
unfolding Within
among_within shapes a b whole x among q lies = x q (among q lies)

-- Where a call is due, all parts that lie in its part are called before, or are due before it.
abbrev pub Inner : List Shape → (before : List Part) → List Task → Type 0
Inner shapes before [] = Unit {0}
Inner shapes before (treats cs ∷ ts) = Inner shapes (parts_in shapes cs ++ before) ts
Inner shapes before (performs of part ∷ ts) = Among shapes before (record { of = of; number = part }) × Inner shapes (record { of = of; number = part } ∷ before) ts

within_cons : (p : Part) (a b : List Part) → Within a b → Within (p ∷ a) (p ∷ b)
within_cons p a b x = within_both (p ∷ []) a (p ∷ b) (within_left (p ∷ []) b) (within_then a b (p ∷ b) x (within_right (p ∷ []) b))

within_append : (c a b : List Part) → Within a b → Within (c ++ a) (c ++ b)
within_append c a b x = within_both c a (c ++ b) (within_left c b) (within_then a b (c ++ b) x (within_right c b))

inner_within : (shapes : List Shape) (a b : List Part) (ts : List Task) → Within a b → Inner shapes a ts → Inner shapes b ts
inner_within shapes a b [] x inner = tt
inner_within shapes a b (treats cs ∷ ts) x inner = inner_within shapes (parts_in shapes cs ++ a) (parts_in shapes cs ++ b) ts (within_append (parts_in shapes cs) a b x) inner
inner_within shapes a b (performs of part ∷ ts) x inner =
    let p : Part = record { of = of; number = part } in
    (among_within shapes a b p x inner.0, inner_within shapes (p ∷ a) (p ∷ b) ts (within_cons p a b x) inner.1)

-- The same parts in front, moved over others.
within_moved : (a b c : List Part) → Within ((a ++ b) ++ c) (b ++ (a ++ c))
within_moved a b c =
    within_both (a ++ b) c (b ++ (a ++ c))
    (within_both a b (b ++ (a ++ c)) (within_then a (a ++ c) (b ++ (a ++ c)) (within_left a c) (within_right b (a ++ c))) (within_left b (a ++ c)))
    (within_then c (a ++ c) (b ++ (a ++ c)) (within_right a c) (within_right b (a ++ c)))

inner_append : (shapes : List Shape) (before : List Part) (a b : List Task) → Inner shapes before a → Inner shapes (parts_left shapes a ++ before) b → Inner shapes before (a ++ b)
inner_append shapes before [] b x y = y
inner_append shapes before (treats cs ∷ a) b x y =
    inner_append shapes (parts_in shapes cs ++ before) a b x
    (inner_within shapes ((parts_in shapes cs ++ parts_left shapes a) ++ before) (parts_left shapes a ++ (parts_in shapes cs ++ before)) b (within_moved (parts_in shapes cs) (parts_left shapes a) before) y)
inner_append shapes before (performs of part ∷ a) b x y =
    let p : Part = record { of = of; number = part } in (
      x.0,
      inner_append shapes (p ∷ before) a b x.1
          (inner_within shapes ((p ∷ parts_left shapes a) ++ before) (parts_left shapes a ++ (p ∷ before)) b (within_moved (p ∷ []) (parts_left shapes a) before) y),
    )

inner_treatment : (shapes : List Shape) (before : List Part) (cs : List Component) → Inner shapes before (treatment_of cs)
inner_treatment shapes before [] = tt
inner_treatment shapes before (c ∷ cs) = tt

pub inner_opened : (shapes : List Shape) (before : List Part) (of first : ℕ) → IsTable shapes → of < length shapes → Inner shapes before (opened shapes PartsFirst of first)
inner_opened shapes before of first table lt =
    inner_append shapes before (treatment_of cs) (operation_of (shape_of shapes of) of first) (inner_treatment shapes before cs) (go (shape_of shapes of).controlled refl)
  where
    cs : List Component
    cs = components_of shapes of first

    in_front : (shape_of shapes of).controlled ≡ true → Among shapes (parts_left shapes (treatment_of cs) ++ before) (record { of = of; number = first })
    in_front is =
        among_within shapes (parts_left shapes (treatment_of cs)) (parts_left shapes (treatment_of cs) ++ before) (record { of = of; number = first }) (within_left (parts_left shapes (treatment_of cs)) before)
        (λ q lies. subst (λ (ps : List Part). Contains (numbers ps) q) (sym (left_treatment shapes cs)) (inside shapes of first q table lt is lies))

    go : (b : Bool) → (shape_of shapes of).controlled ≡ b → Inner shapes (parts_left shapes (treatment_of cs) ++ before) (if b then performs of first ∷ [] else [])
    go true is = (in_front is, tt)
    go false is = tt

-- What is beside a component that is taken.
inner_without : (shapes : List Shape) (before : List Part) (left : List Task) (i : ℕ) (c : Component) → open_at left i ≡ Some c → Inner shapes before left → Inner shapes (parts_at shapes c.of c.first ++ before) (without left i)
inner_without shapes before [] i c e inner = absurd (cc e)
inner_without shapes before (performs of part ∷ ts) i c e inner = absurd (cc e)
inner_without shapes before (treats cs ∷ ts) i c e inner =
    let mine = parts_at shapes c.of c.first in
    let rest = treatment_of (remove cs i) in
    let all : Within (parts_in shapes cs) (mine ++ parts_left shapes rest) =
    subst (λ (ps : List Part). Within (parts_in shapes cs) (mine ++ ps)) (append-nil (parts_left shapes rest))
    (subst (λ (ps : List Part). Within (parts_in shapes cs) (mine ++ ps)) (left_append shapes rest [])
    (subst (λ (ps : List Part). Within ps (mine ++ parts_left shapes (rest ++ []))) (append-nil (parts_in shapes cs))
    (within_permutation (parts_in shapes cs ++ []) (mine ++ parts_left shapes (rest ++ [])) (left_without shapes (treats cs ∷ []) i c e)))) in
    inner_append shapes (mine ++ before) rest ts (inner_treatment shapes (mine ++ before) (remove cs i))
    (inner_within shapes (parts_in shapes cs ++ before) (parts_left shapes rest ++ (mine ++ before)) ts
    (within_both (parts_in shapes cs) before (parts_left shapes rest ++ (mine ++ before))
    (within_then (parts_in shapes cs) (mine ++ parts_left shapes rest) (parts_left shapes rest ++ (mine ++ before)) all
    (within_both mine (parts_left shapes rest) (parts_left shapes rest ++ (mine ++ before))
    (within_then mine (mine ++ before) (parts_left shapes rest ++ (mine ++ before)) (within_left mine before) (within_right (parts_left shapes rest) (mine ++ before)))
    (within_left (parts_left shapes rest) (mine ++ before))))
    (within_then before (mine ++ before) (parts_left shapes rest ++ (mine ++ before)) (within_right mine before) (within_right (parts_left shapes rest) (mine ++ before))))
    inner)

pub inner_taken : (shapes : List Shape) (before : List Part) (left : List Task) (i : ℕ) → IsTable shapes → IsOpen left i → OfComponents (Known shapes) left → Inner shapes before left → Inner shapes before (taken shapes PartsFirst left i)
inner_taken shapes before left i table h all inner =
    let o = opens left i h in
    let c = o.component in
    let lt = of_open (Known shapes) left i c all o.is in
    let mine = parts_at shapes c.of c.first in
    let opened' = opened shapes PartsFirst c.of c.first in
    subst (Inner shapes before) (sym (taken_open shapes PartsFirst left i c o.is))
    (inner_append shapes before opened' (without left i) (inner_opened shapes before c.of c.first table lt)
    (inner_within shapes (mine ++ before) (parts_left shapes opened' ++ before) (without left i)
    (within_both mine before (parts_left shapes opened' ++ before)
    (within_then mine (parts_left shapes opened') (parts_left shapes opened' ++ before) (within_permutation mine (parts_left shapes opened') (left_opened shapes PartsFirst c.of c.first table lt)) (within_left (parts_left shapes opened') before))
    (within_right (parts_left shapes opened') before))
    (inner_without shapes before left i c o.is inner)))

inside_out : (shapes : List Shape) → IsTable shapes → {left last : List Task} {steps : ℕ} {done : List Part} (before : List Part) → Run shapes PartsFirst left steps done last → OfComponents (Known shapes) left → Inner shapes before left → InsideOut shapes before done
inside_out shapes table before here all inner = tt
inside_out shapes table before (picks {left} i h run) all inner =
    inside_out shapes table before run (kept_picked shapes PartsFirst (Known shapes) (known_closed shapes table) left i h all) (inner_taken shapes before left i table h all inner)
inside_out shapes table before (calls {left} of part e run) all inner =
    let due = subst (Inner shapes before) (call_is left of part e) inner in
    (due.0, inside_out shapes table (record { of = of; number = part } ∷ before) run (kept_called (Known shapes) left all) due.1)

pub parts_come_first : (shapes : List Shape) (of first : ℕ) → IsTable shapes → of < length shapes → {last : List Task} {steps : ℕ} {done : List Part} → Run shapes PartsFirst (opened shapes PartsFirst of first) steps done last → OfComponents (Known shapes) (opened shapes PartsFirst of first) → InsideOut shapes [] done
parts_come_first shapes of first table lt run all = inside_out shapes table [] run all (inner_opened shapes [] of first table lt)

-- Where a call is due, all parts that lie in its part are due behind it.
abbrev pub Outer : List Shape → List Task → Type 0
Outer shapes [] = Unit {0}
Outer shapes (treats cs ∷ ts) = Outer shapes ts
Outer shapes (performs of part ∷ ts) = Among shapes (parts_left shapes ts) (record { of = of; number = part }) × Outer shapes ts

outer_treatment : (shapes : List Shape) (cs : List Component) (ts : List Task) → Outer shapes ts → Outer shapes (treatment_of cs ++ ts)
outer_treatment shapes [] ts x = x
outer_treatment shapes (c ∷ cs) ts x = x

pub outer_opened : (shapes : List Shape) (of first : ℕ) (ts : List Task) → IsTable shapes → of < length shapes → Outer shapes ts → Outer shapes (opened shapes WholeFirst of first ++ ts)
outer_opened shapes of first ts table lt outer =
    subst (Outer shapes) (sym (append_assoc (operation_of (shape_of shapes of) of first) (treatment_of cs) ts)) (go (shape_of shapes of).controlled refl)
  where
    cs : List Component
    cs = components_of shapes of first

    behind : (shape_of shapes of).controlled ≡ true → Among shapes (parts_left shapes (treatment_of cs ++ ts)) (record { of = of; number = first })
    behind is =
        subst (λ (ps : List Part). Among shapes ps (record { of = of; number = first })) (sym (left_append shapes (treatment_of cs) ts ∙ ap (λ (ps : List Part). ps ++ parts_left shapes ts) (left_treatment shapes cs)))
        (among_within shapes (parts_in shapes cs) (parts_in shapes cs ++ parts_left shapes ts) (record { of = of; number = first }) (within_left (parts_in shapes cs) (parts_left shapes ts))
        (λ q lies. inside shapes of first q table lt is lies))

    go : (b : Bool) → (shape_of shapes of).controlled ≡ b → Outer shapes ((if b then performs of first ∷ [] else []) ++ (treatment_of cs ++ ts))
    go true is = (behind is, outer_treatment shapes cs ts outer)
    go false is = outer_treatment shapes cs ts outer

outer_without : (shapes : List Shape) (left : List Task) (i : ℕ) → Outer shapes left → Outer shapes (without left i)
outer_without shapes [] i x = tt
outer_without shapes (performs of part ∷ ts) i x = x
outer_without shapes (treats cs ∷ ts) i x = outer_treatment shapes (remove cs i) ts x

pub outer_taken : (shapes : List Shape) (left : List Task) (i : ℕ) → IsTable shapes → IsOpen left i → OfComponents (Known shapes) left → Outer shapes left → Outer shapes (taken shapes WholeFirst left i)
outer_taken shapes left i table h all outer =
    let o = opens left i h in
    let c = o.component in
    subst (Outer shapes) (sym (taken_open shapes WholeFirst left i c o.is))
    (outer_opened shapes c.of c.first (without left i) table (of_open (Known shapes) left i c all o.is) (outer_without shapes left i outer))

outside_in : (shapes : List Shape) → IsTable shapes → {left last : List Task} {steps : ℕ} {done : List Part} → Run shapes WholeFirst left steps done last → last ≡ [] → OfComponents (Known shapes) left → Outer shapes left → OutsideIn shapes done
outside_in shapes table here end all outer = tt
outside_in shapes table (picks {left} i h run) end all outer =
    outside_in shapes table run end (kept_picked shapes WholeFirst (Known shapes) (known_closed shapes table) left i h all) (outer_taken shapes left i table h all outer)
outside_in shapes table {last} (calls {left} {later} of part e run) end all outer =
    let due = subst (Outer shapes) (call_is left of part e) outer in
    let kept = kept_called (Known shapes) left all in
    let same = subst (IsPermutation (parts_left shapes (performed left))) (ap (λ (ts : List Task). later ++ parts_left shapes ts) end ∙ append-nil later) (each_once shapes WholeFirst table run kept) in (
      among_within shapes (parts_left shapes (performed left)) later (record { of = of; number = part }) (within_permutation (parts_left shapes (performed left)) later same) due.0,
      outside_in shapes table run end kept due.1,
    )

pub wholes_come_first : (shapes : List Shape) (of first : ℕ) → IsTable shapes → of < length shapes → {last : List Task} {steps : ℕ} {done : List Part} → Run shapes WholeFirst (opened shapes WholeFirst of first) steps done last → last ≡ [] → OfComponents (Known shapes) (opened shapes WholeFirst of first) → OutsideIn shapes done
wholes_come_first shapes of first table lt run end all =
    outside_in shapes table run end all
    (subst (Outer shapes) (append-nil (opened shapes WholeFirst of first)) (outer_opened shapes of first [] table lt tt))
