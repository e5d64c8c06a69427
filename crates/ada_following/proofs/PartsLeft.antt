-- How often a part is still to be finalized, and parts of which none lies in another.

use Rattle.std.proofs.Common.{◌≡◌, ◌≢◌, ℕ, zero, suc, ◌+◌, ◌<◌, ◌≤◌, Bool, true, false, cond, List, [], ◌∷◌, ◌++◌, Some, refl, sym, ap, ◌∙◌, inl, inr, subst, arith}
use Rattle.std.specs.Prelude.{◌==◌}
use Rattle.std.specs.List.{remove, slice_get}
use Rattle.std.proofs.lemmas.Bool.Decides.{eqb_tells}
use Rattle.ada_parts.specs.declared.tasks.Component.{Component}
use Rattle.ada_parts.specs.declared.tasks.Direction.TheVariants.{WholeFirst}
use Rattle.ada_parts.specs.Shape.{Shape, IsTable, shape_of}
use Rattle.ada_parts.specs.Part.{Part, components_of, own_part, parts_at, numbers}
use Rattle.ada_parts.specs.Task.{Task, treats, treatment_of, operation_of, opened}
use Rattle.ada_parts.specs.Law.{parts_in, parts_left}
use Rattle.ada_parts.proofs.Runs.{left_append, left_treatment, left_operation}
use Rattle.ada_storage.specs.State.{Forest, none, tree, bit, same, in_list, in_forest, is_top, kids_of, others_of}
use Rattle.ada_storage.specs.Step.{all_alive}
use Rattle.ada_storage.proofs.Facts.{same_self, same_other}
use Rattle.ada_following.specs.Forests.{forest_at, forest_of}
use Rattle.ada_following.proofs.Forests.{at_step, in_both, numbers_both, counts_all, around_counts, counted_at}

module _ (shapes : List Shape) (table : IsTable shapes) where
  of_components : (q : ℕ) (cs : List Component) → in_forest q (forest_of shapes cs) ≡ in_list q (numbers (parts_in shapes cs))
  of_components q cs = counts_all q (λ c. forest_at shapes c.of c.first) (λ c. parts_at shapes c.of c.first) cs (λ c. counted_at shapes q c.of c.first)

  -- A record that is opened.
  pub opened_counts : (q t p : ℕ) → in_list q (numbers (parts_left shapes (opened shapes WholeFirst t p))) ≡ in_forest q (forest_at shapes t p)
  opened_counts q t p =
      let shape = shape_of shapes t in
      let cs = components_of shapes t p in
      let e : parts_left shapes (opened shapes WholeFirst t p) ≡ own_part shape t p ++ parts_in shapes cs =
      left_append shapes (operation_of shape t p) (treatment_of cs)
      ∙ ap (λ (ps : List Part). ps ++ parts_left shapes (treatment_of cs)) (left_operation shapes shape t p)
      ∙ ap (λ (ps : List Part). own_part shape t p ++ ps) (left_treatment shapes cs) in
      ap (λ (ps : List Part). in_list q (numbers ps)) e
      ∙ sym (around_counts q shape t p (forest_of shapes cs) (parts_in shapes cs) (of_components q cs))
      ∙ ap (in_forest q) (sym (at_step shapes t p table))

  -- One of some components is picked.
  pick_forest : (q : ℕ) (cs : List Component) (i : ℕ) (c : Component) → slice_get cs i ≡ Some c → in_forest q (forest_of shapes cs) ≡ in_forest q (forest_at shapes c.of c.first) + in_forest q (forest_of shapes (remove cs i))
  pick_forest q [] i c is = absurd (cc)
  pick_forest q (d ∷ cs) zero c is =
      let one : d ≡ c = cc in
      in_both q (forest_at shapes d.of d.first) (forest_of shapes cs) ∙ ap (λ (e : Component). in_forest q (forest_at shapes e.of e.first) + in_forest q (forest_of shapes cs)) one
  pick_forest q (d ∷ cs) (suc i) c is =
      let a = in_both q (forest_at shapes d.of d.first) (forest_of shapes cs) in
      let b = in_both q (forest_at shapes d.of d.first) (forest_of shapes (remove cs i)) in
      let r = pick_forest q cs i c is in
      omega (arith, a, b, r)

  left_both : (q : ℕ) (a b : List Task) → in_list q (numbers (parts_left shapes (a ++ b))) ≡ in_list q (numbers (parts_left shapes a)) + in_list q (numbers (parts_left shapes b))
  left_both q a b = ap (λ (ps : List Part). in_list q (numbers ps)) (left_append shapes a b) ∙ numbers_both q (parts_left shapes a) (parts_left shapes b)

  pub taken_counts :
      (q : ℕ) (cs : List Component) (rest : List Task) (i : ℕ) (c : Component) → slice_get cs i ≡ Some c
      → in_list q (numbers (parts_left shapes (opened shapes WholeFirst c.of c.first ++ (treatment_of (remove cs i) ++ rest)))) ≡ in_list q (numbers (parts_left shapes (treats cs ∷ rest)))
  taken_counts q cs rest i c is =
      let a = left_both q (opened shapes WholeFirst c.of c.first) (treatment_of (remove cs i) ++ rest) in
      let b = left_both q (treatment_of (remove cs i)) rest in
      let d = opened_counts q c.of c.first in
      let e = ap (λ (ps : List Part). in_list q (numbers ps)) (left_treatment shapes (remove cs i)) in
      let f = of_components q (remove cs i) in
      let g = pick_forest q cs i c is in
      let j = of_components q cs in
      let l = numbers_both q (parts_in shapes cs) (parts_left shapes rest) in
      omega (arith, a, b, d, e, f, g, j, l)

-- Parts of which none lies in another one.
abbrev pub beside : (parts : List ℕ) → Forest
beside [] = none
beside (p ∷ ps) = tree p none (beside ps)

pub in_beside : (q : ℕ) (ps : List ℕ) → in_forest q (beside ps) ≡ in_list q ps
in_beside q [] = refl
in_beside q (p ∷ ps) = let e = in_beside q ps in omega (arith, e)

pub top_beside : (p : ℕ) (ps : List ℕ) → 0 < in_list p ps → is_top p (beside ps) ≡ true
top_beside p [] some = absurd (omega (arith, some))
top_beside p (x ∷ ps) some = elim (eqb_tells p x) [
  | inl h ↦ ap (λ (b : Bool). cond b true (is_top p (beside ps))) h.0
  | inr h ↦ (ap (λ (b : Bool). cond b true (is_top p (beside ps))) h.0 ∙ top_beside p ps (let z = ap bit h.0 in omega (arith, z, some)))
]

pub kids_beside : (p : ℕ) (ps : List ℕ) → kids_of p (beside ps) ≡ none
kids_beside p [] = refl
kids_beside p (x ∷ ps) = go (p == x) (kids_beside p ps)
  where
    go : (b : Bool) → kids_of p (beside ps) ≡ none → cond b none (kids_of p (beside ps)) ≡ none
    go true e = refl
    go false e = e

-- All but one.
abbrev pub but_one : ℕ → List ℕ → List ℕ
but_one p [] = []
but_one p (x ∷ ps) = cond (p == x) ps (x ∷ but_one p ps)

pub others_beside : (p : ℕ) (ps : List ℕ) → others_of p (beside ps) ≡ beside (but_one p ps)
others_beside p [] = refl
others_beside p (x ∷ ps) = go (p == x) (others_beside p ps)
  where
    go : (b : Bool) → others_of p (beside ps) ≡ beside (but_one p ps) → cond b (beside ps) (tree x none (others_of p (beside ps))) ≡ beside (cond b ps (x ∷ but_one p ps))
    go true e = refl
    go false e = ap (tree x none) e

pub in_but_one : (q p : ℕ) (ps : List ℕ) → q ≢ p → 0 < in_list q ps → 0 < in_list q (but_one p ps)
in_but_one q p [] ne some = some
in_but_one q p (x ∷ ps) ne some = elim (eqb_tells p x) [ inl h ↦ here h.0 h.1 | inr h ↦ later h.0 (λ d. in_but_one q p ps ne d) ]
  where
    here : (p == x) ≡ true → p ≡ x → 0 < in_list q (but_one p (x ∷ ps))
    here b e =
        let apart : same q x ≡ 0 = ap (same q) (sym e) ∙ same_other q p ne in
        let c = ap (λ (d : Bool). in_list q (cond d ps (x ∷ but_one p ps))) b in
        omega (arith, apart, c, some)

    later : (p == x) ≡ false → (0 < in_list q ps → 0 < in_list q (but_one p ps)) → 0 < in_list q (but_one p (x ∷ ps))
    later b again = subst (λ (d : Bool). 0 < in_list q (cond d ps (x ∷ but_one p ps))) (sym b) (go (in_list q ps) refl)
      where
        go : (n : ℕ) → in_list q ps ≡ n → 0 < in_list q (x ∷ but_one p ps)
        go zero z = omega (arith, z, some)
        go (suc n) z = let r = again (omega (arith, z)) in omega (arith, r)

pub one_less : (q p : ℕ) (ps : List ℕ) → 0 < in_list p ps → in_list q ps ≡ same q p + in_list q (but_one p ps)
one_less q p [] some = absurd (omega (arith, some))
one_less q p (x ∷ ps) some = elim (eqb_tells p x) [ inl h ↦ here h.0 h.1 | inr h ↦ later h.0 (λ d. one_less q p ps d) ]
  where
    here : (p == x) ≡ true → p ≡ x → in_list q (x ∷ ps) ≡ same q p + in_list q (but_one p (x ∷ ps))
    here b e = let c = ap (λ (d : Bool). in_list q (cond d ps (x ∷ but_one p ps))) b in let d = ap (same q) e in omega (arith, c, d)

    later : (p == x) ≡ false → (0 < in_list p ps → in_list q ps ≡ same q p + in_list q (but_one p ps)) → in_list q (x ∷ ps) ≡ same q p + in_list q (but_one p (x ∷ ps))
    later b again =
        let z = ap bit b in
        let r = again (omega (arith, z, some)) in
        let c = ap (λ (d : Bool). in_list q (cond d ps (x ∷ but_one p ps))) b in
        omega (arith, r, c)

-- Those that have a value.
abbrev pub alive_among : (ℕ → Bool) → List ℕ → List ℕ
alive_among A [] = []
alive_among A (p ∷ ps) = cond (A p) (p ∷ alive_among A ps) (alive_among A ps)

pub they_live : (A : ℕ → Bool) (ps : List ℕ) → all_alive A (beside (alive_among A ps)) ≡ true
they_live A [] = refl
they_live A (p ∷ ps) = go (A p) refl (they_live A ps)
  where
    go : (b : Bool) → A p ≡ b → all_alive A (beside (alive_among A ps)) ≡ true → all_alive A (beside (cond b (p ∷ alive_among A ps) (alive_among A ps))) ≡ true
    go true is e = ap (λ (c : Bool). cond c (cond true (all_alive A (beside (alive_among A ps))) false) false) is ∙ e
    go false is e = e

pub among_le : (A : ℕ → Bool) (q : ℕ) (ps : List ℕ) → in_list q (alive_among A ps) ≤ in_list q ps
among_le A q [] = omega arith
among_le A q (p ∷ ps) = go (A p) (among_le A q ps)
  where
    go : (b : Bool) → in_list q (alive_among A ps) ≤ in_list q ps → in_list q (cond b (p ∷ alive_among A ps) (alive_among A ps)) ≤ in_list q (p ∷ ps)
    go true le = omega (arith, le)
    go false le = omega (arith, le)

pub only_alive : (A : ℕ → Bool) (q : ℕ) (ps : List ℕ) → A q ≡ false → in_list q (alive_among A ps) ≡ 0
only_alive A q [] dead = refl
only_alive A q (p ∷ ps) dead = go (A p) refl (only_alive A q ps dead)
  where
    go : (b : Bool) → A p ≡ b → in_list q (alive_among A ps) ≡ 0 → in_list q (cond b (p ∷ alive_among A ps) (alive_among A ps)) ≡ 0
    go true e z = let apart = same_other q p (λ d. let both : true ≡ false = sym e ∙ ap A (sym d) ∙ dead in absurd (cc both)) in omega (arith, apart, z)
    go false e z = z

pub is_among : (A : ℕ → Bool) (q : ℕ) (ps : List ℕ) → A q ≡ true → 0 < in_list q ps → 0 < in_list q (alive_among A ps)
is_among A q [] lives some = some
is_among A q (p ∷ ps) lives some = elim (eqb_tells q p) [ inl h ↦ here h.1 | inr h ↦ later h.0 (is_among A q ps lives) ]
  where
    here : q ≡ p → 0 < in_list q (alive_among A (p ∷ ps))
    here e =
        let one : same q p ≡ 1 = ap (same q) (sym e) ∙ same_self q in
        let there : A p ≡ true = ap A (sym e) ∙ lives in
        let c = ap (λ (b : Bool). in_list q (cond b (p ∷ alive_among A ps) (alive_among A ps))) there in
        omega (arith, one, c)

    later : (q == p) ≡ false → (0 < in_list q ps → 0 < in_list q (alive_among A ps)) → 0 < in_list q (alive_among A (p ∷ ps))
    later b again = go (A p) (let z = ap bit b in again (omega (arith, z, some)))
      where
        go : (d : Bool) → 0 < in_list q (alive_among A ps) → 0 < in_list q (cond d (p ∷ alive_among A ps) (alive_among A ps))
        go true r = omega (arith, r)
        go false r = r

-- Where not all have a value, some part has none.
pub record HasDead (A : ℕ → Bool) (f : Forest) : Type 0 where
  pub part : ℕ
  pub there : 0 < in_forest part f
  pub dead : A part ≡ false

dead_by :
    (A : ℕ → Bool) (p : ℕ) (inside others : Forest) (a b c : Bool) → A p ≡ a → all_alive A inside ≡ b → all_alive A others ≡ c → cond a (cond b c false) false ≡ false
    → (all_alive A inside ≡ false → HasDead A inside) → (all_alive A others ≡ false → HasDead A others) → HasDead A (tree p inside others)
dead_by A p inside others false b c x y z e i j = let one = same_self p in record { part = p; there = omega (arith, one); dead = x }
dead_by A p inside others true false c x y z e i j = let d = i y in let some = d.there in record { part = d.part; there = omega (arith, some); dead = d.dead }
dead_by A p inside others true true false x y z e i j = let d = j z in let some = d.there in record { part = d.part; there = omega (arith, some); dead = d.dead }
dead_by A p inside others true true true x y z e i j = absurd (cc e)

pub has_dead : (A : ℕ → Bool) (f : Forest) → all_alive A f ≡ false → HasDead A f
has_dead A none e = absurd (cc e)
has_dead A (tree p inside others) e =
    dead_by A p inside others (A p) (all_alive A inside) (all_alive A others) refl refl refl e (has_dead A inside) (has_dead A others)

-- Where all have a value, each has.
all_by :
    (A : ℕ → Bool) (p : ℕ) (inside others : Forest) (a b c : Bool) → A p ≡ a → all_alive A inside ≡ b → all_alive A others ≡ c → cond a (cond b c false) false ≡ true
    → (all_alive A inside ≡ true → (q : ℕ) → 0 < in_forest q inside → A q ≡ true) → (all_alive A others ≡ true → (q : ℕ) → 0 < in_forest q others → A q ≡ true) → (q : ℕ) → 0 < in_forest q (tree p inside others) → A q ≡ true
all_by A p inside others false b c x y z e i j q some = absurd (cc e)
all_by A p inside others true false c x y z e i j q some = absurd (cc e)
all_by A p inside others true true false x y z e i j q some = absurd (cc e)
all_by A p inside others true true true x y z e i j q some = elim (eqb_tells q p) [
  | inl h ↦ (ap A h.1 ∙ x)
  | inr h ↦ within (let d = same_other q p h.1 in omega (arith, d, some))
]
  where
    within : 0 < in_forest q inside + in_forest q others → A q ≡ true
    within lt = go (in_forest q inside) refl
      where
        go : (n : ℕ) → in_forest q inside ≡ n → A q ≡ true
        go zero there = j z q (omega (arith, lt, there))
        go (suc n) there = i y q (omega (arith, there))

pub all_have : (A : ℕ → Bool) (f : Forest) → all_alive A f ≡ true → (q : ℕ) → 0 < in_forest q f → A q ≡ true
all_have A none e q some = absurd (omega (arith, some))
all_have A (tree p inside others) e q some =
    all_by A p inside others (A p) (all_alive A inside) (all_alive A others) refl refl refl e (all_have A inside) (all_have A others) q some
