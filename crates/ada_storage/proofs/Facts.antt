-- Facts on tables and counts.

use Rattle.std.proofs.Common.{◌≡◌, ◌≢◌, ℕ, zero, suc, ◌+◌, ◌<◌, ◌≤◌, Bool, true, false, cond, List, [], ◌∷◌, refl, sym, ap, ◌∙◌, inl, inr, subst, arith}
use Rattle.std.specs.Prelude.{◌==◌}
use Rattle.std.proofs.lemmas.Bool.{eqb-true}
use Rattle.std.proofs.lemmas.Bool.Decides.{eqb_tells}
use Rattle.ada_storage.specs.State.{Forest, none, tree, put, put_part, bit, same, in_forest, in_forests, within, withins, is_top, kids_of, others_of}

pub same_self : (a : ℕ) → same a a ≡ 1
same_self a = elim (eqb_tells a a) [ inl h ↦ ap bit (h.0) | inr h ↦ absurd (h.1 refl) ]

pub same_other : (a b : ℕ) → a ≢ b → same a b ≡ 0
same_other a b ne = elim (eqb_tells a b) [ inl h ↦ absurd (ne h.1) | inr h ↦ ap bit (h.0) ]

pub same_is : (a b : ℕ) → 0 < same a b → a ≡ b
same_is a b pos = elim (eqb_tells a b) [ inl h ↦ h.1 | inr h ↦ absurd (let e = ap bit (h.0) in omega (arith, e, pos)) ]

pub same_le : (a b : ℕ) → same a b ≤ 1
same_le a b = elim (eqb_tells a b) [ inl h ↦ let e = ap bit (h.0) in omega (arith, e) | inr h ↦ let e = ap bit (h.0) in omega (arith, e) ]

pub put_here : {X : Type 0} (f : ℕ → X) (a : ℕ) (v : X) → put f a v a ≡ v
put_here f a v = elim (eqb_tells a a) [ inl h ↦ ap (λ b. cond b v (f a)) h.0 | inr h ↦ absurd (h.1 refl) ]

pub put_there : {X : Type 0} (f : ℕ → X) (a : ℕ) (v : X) (x : ℕ) → x ≢ a → put f a v x ≡ f x
put_there f a v x ne = elim (eqb_tells x a) [ inl h ↦ absurd (ne h.1) | inr h ↦ ap (λ b. cond b v (f x)) h.0 ]

pub eq_self : (a : ℕ) → (a == a) ≡ true
eq_self a = elim (eqb_tells a a) [ inl h ↦ h.0 | inr h ↦ absurd (h.1 refl) ]

pub eq_not : (a b : ℕ) → a ≢ b → (a == b) ≡ false
eq_not a b ne = elim (eqb_tells a b) [ inl h ↦ absurd (ne h.1) | inr h ↦ h.0 ]

pub part_here : {X : Type 0} (f : ℕ → ℕ → X) (o p : ℕ) (v : X) → put_part f o p v o p ≡ v
part_here f o p v = ap (λ b. cond b (cond (p == p) v (f o p)) (f o p)) (eq_self o) ∙ ap (λ b. cond b v (f o p)) (eq_self p)

pub part_other : {X : Type 0} (f : ℕ → ℕ → X) (o p : ℕ) (v : X) (x q : ℕ) → q ≢ p → put_part f o p v x q ≡ f x q
part_other f o p v x q ne = ap (λ b. cond (x == o) (cond b v (f x q)) (f x q)) (eq_not q p ne) ∙ both (x == o)
  where
    both : (b : Bool) → cond b (f x q) (f x q) ≡ f x q
    both true = refl
    both false = refl

pub part_there : {X : Type 0} (f : ℕ → ℕ → X) (o p : ℕ) (v : X) (x q : ℕ) → x ≢ o → put_part f o p v x q ≡ f x q
part_there f o p v x q ne = elim (eqb_tells x o) [ inl h ↦ absurd (ne h.1) | inr h ↦ ap (λ b. cond b (cond (q == p) v (f x q)) (f x q)) h.0 ]

top_go : (x p : ℕ) (kids rest : Forest) (q : ℕ) → is_top x (tree p kids rest) ≡ true → (is_top x rest ≡ true → in_forest q rest ≡ same q x + (in_forest q (kids_of x rest) + in_forest q (others_of x rest))) → (b : Bool) → (x == p) ≡ b → same q p + (in_forest q kids + in_forest q rest) ≡ same q x + (in_forest q (cond b kids (kids_of x rest)) + in_forest q (cond b rest (tree p kids (others_of x rest))))
top_go x p kids rest q e more true is = ap (λ (y : ℕ). same q y + (in_forest q kids + in_forest q rest)) (sym (eqb-true x p is))
top_go x p kids rest q e more false is =
    let again = more (sym (ap (λ (b : Bool). cond b true (is_top x rest)) is) ∙ e) in
    omega (arith, again)

-- The part that is taken.
pub top_counts : (x : ℕ) (f : Forest) (q : ℕ) → is_top x f ≡ true → in_forest q f ≡ same q x + (in_forest q (kids_of x f) + in_forest q (others_of x f))
top_counts x none q e = absurd (cc e)
top_counts x (tree p kids rest) q e = top_go x p kids rest q e (top_counts x rest q) (x == p) refl

-- A bit and its counts.
pub bit_le : (b : Bool) → bit b ≤ 1
bit_le true = omega arith
bit_le false = omega arith

pub is_alive : (b : Bool) (c : ℕ) → bit b ≡ suc c → b ≡ true
is_alive true c e = refl
is_alive false c e = absurd (omega (arith, e))

pub is_dead : (b : Bool) → bit b ≡ 0 → b ≡ false
is_dead true e = absurd (omega (arith, e))
is_dead false e = refl

-- A part that is counted goes.
pub part_dies : (f : ℕ → ℕ → Bool) (o x q c rest : ℕ) → bit (f o q) ≡ c → c ≡ same q x + rest → bit (put_part f o x false o q) ≡ rest
part_dies f o x q c rest e is = elim (eqb_tells q x) [ inl h ↦ gone h.1 | inr h ↦ stays h.1 ]
  where
    gone : q ≡ x → bit (put_part f o x false o q) ≡ rest
    gone same' =
        let dead : bit (put_part f o x false o q) ≡ 0 = rw same' (ap bit (part_here f o x false)) in
        let one : same q x ≡ 1 = rw same' (same_self x) in
        let le = bit_le (f o q) in
        omega (arith, dead, one, le, e, is)

    stays : q ≢ x → bit (put_part f o x false o q) ≡ rest
    stays ne =
        let kept = ap bit (part_other f o x false o q ne) in
        let none = same_other q x ne in
        omega (arith, kept, none, e, is)

-- A part that is not counted is born.
pub part_lives : (f : ℕ → ℕ → Bool) (o x q c : ℕ) → bit (f o q) ≡ c → bit (put_part f o x true o q) ≡ same q x + (cond (q == x) 0 c)
part_lives f o x q c e = elim (eqb_tells q x) [ inl h ↦ there h.0 h.1 | inr h ↦ stays h.0 h.1 ]
  where
    there : (q == x) ≡ true → q ≡ x → bit (put_part f o x true o q) ≡ same q x + (cond (q == x) 0 c)
    there is same' =
        let alive : bit (put_part f o x true o q) ≡ 1 = rw same' (ap bit (part_here f o x true)) in
        let one : same q x ≡ 1 = rw same' (same_self x) in
        let zero' : cond (q == x) 0 c ≡ 0 = ap (λ b. cond b 0 c) is in
        omega (arith, alive, one, zero')

    stays : (q == x) ≡ false → q ≢ x → bit (put_part f o x true o q) ≡ same q x + (cond (q == x) 0 c)
    stays is ne =
        let kept = ap bit (part_other f o x true o q ne) in
        let none = same_other q x ne in
        let c' : cond (q == x) 0 c ≡ c = ap (λ b. cond b 0 c) is in
        omega (arith, kept, none, c', e)

pub born_counts : (f : ℕ → ℕ → Bool) (o x q c : ℕ) → bit (f o q) ≡ c → c + same q x ≤ 1 → bit (put_part f o x true o q) ≡ same q x + c
born_counts f o x q c e le = elim (eqb_tells q x) [ inl h ↦ there h.0 h.1 | inr h ↦ stays h.0 ]
  where
    there : (q == x) ≡ true → q ≡ x → bit (put_part f o x true o q) ≡ same q x + c
    there is same' =
        let b = part_lives f o x q c e in
        let one : same q x ≡ 1 = rw same' (same_self x) in
        let zero' : cond (q == x) 0 c ≡ 0 = ap (λ b. cond b 0 c) is in
        omega (arith, b, one, zero', le)

    stays : (q == x) ≡ false → bit (put_part f o x true o q) ≡ same q x + c
    stays is =
        let b = part_lives f o x q c e in
        let c' : cond (q == x) 0 c ≡ c = ap (λ b. cond b 0 c) is in
        omega (arith, b, c')

-- What is strictly inside, as a part is taken.
within_go : (x y : ℕ) (kids rest : Forest) (p q : ℕ) → is_top x (tree y kids rest) ≡ true → (is_top x rest ≡ true → within p q rest ≡ cond (q == x) (in_forest p (kids_of x rest)) 0 + (within p q (kids_of x rest) + within p q (others_of x rest))) → (b : Bool) → (x == y) ≡ b → cond (q == y) (in_forest p kids) 0 + (within p q kids + within p q rest) ≡ cond (q == x) (in_forest p (cond b kids (kids_of x rest))) 0 + (within p q (cond b kids (kids_of x rest)) + within p q (cond b rest (tree y kids (others_of x rest))))
within_go x y kids rest p q e more true is = ap (λ (z : ℕ). cond (q == z) (in_forest p kids) 0 + (within p q kids + within p q rest)) (sym (eqb-true x y is))
within_go x y kids rest p q e more false is =
    let again = more (sym (ap (λ (b : Bool). cond b true (is_top x rest)) is) ∙ e) in
    omega (arith, again)

pub top_within : (x : ℕ) (f : Forest) (p q : ℕ) → is_top x f ≡ true → within p q f ≡ cond (q == x) (in_forest p (kids_of x f)) 0 + (within p q (kids_of x f) + within p q (others_of x f))
top_within x none p q e = absurd (cc e)
top_within x (tree y kids rest) p q e = within_go x y kids rest p q e (top_within x rest p q) (x == y) refl

-- What isn't there is inside nothing.
pub within_none : (p q : ℕ) (f : Forest) → in_forest p f ≡ 0 → within p q f ≡ 0
within_none p q none z = refl
within_none p q (tree x kids rest) z = go (q == x) (within_none p q kids (omega (arith, z))) (within_none p q rest (omega (arith, z)))
  where
    go : (b : Bool) → within p q kids ≡ 0 → within p q rest ≡ 0 → cond b (in_forest p kids) 0 + (within p q kids + within p q rest) ≡ 0
    go true a b = omega (arith, a, b, z)
    go false a b = omega (arith, a, b)

pub withins_none : (p q : ℕ) (fs : List Forest) → in_forests p fs ≡ 0 → withins p q fs ≡ 0
withins_none p q [] z = refl
withins_none p q (f ∷ fs) z = let a = within_none p q f (omega (arith, z)) in let b = withins_none p q fs (omega (arith, z)) in omega (arith, a, b)

-- Taken parts, strictly inside.
pub agrees_taken : (x : ℕ) (f : Forest) (fs : List Forest) (g : Forest) → is_top x f ≡ true → in_forests x (kids_of x f ∷ others_of x f ∷ fs) ≡ 0 → ((p q : ℕ) → 0 < in_forests q (f ∷ fs) → withins p q (f ∷ fs) ≡ within p q g) → (p q : ℕ) → 0 < in_forests q (kids_of x f ∷ others_of x f ∷ fs) → withins p q (kids_of x f ∷ others_of x f ∷ fs) ≡ within p q g
agrees_taken x f fs g e gone agrees p q pos =
    let c = top_counts x f q e in
    let w = top_within x f p q e in
    let a = agrees p q (omega (arith, c, pos)) in
    let other : q ≢ x = (λ is. let z = subst (λ (y : ℕ). in_forests y (kids_of x f ∷ others_of x f ∷ fs) ≡ 0) (sym is) gone in omega (arith, z, pos)) in
    let d = ap (λ b. cond b (in_forest p (kids_of x f)) 0) (eq_not q x other) in
    omega (arith, w, a, d)

-- What isn't there has nothing inside.
pub within_absent : (p q : ℕ) (f : Forest) → in_forest q f ≡ 0 → within p q f ≡ 0
within_absent p q none z = refl
within_absent p q (tree x kids rest) z =
    let other : q ≢ x = (λ is. let one : same q x ≡ 1 = rw is (same_self x) in omega (arith, one, z)) in
    let d = ap (λ b. cond b (in_forest p kids) 0) (eq_not q x other) in
    let a = within_absent p q kids (omega (arith, z)) in
    let b = within_absent p q rest (omega (arith, z)) in
    omega (arith, d, a, b)

-- What is inside is there.
pub within_there : (p q n : ℕ) (f : Forest) → in_forest p f ≡ n → 0 < within p q f → 0 < in_forest p f
within_there p q zero f e pos = let z = within_none p q f e in absurd (omega (arith, z, pos))
within_there p q (suc n) f e pos = omega (arith, e)

pub kids_inside : (x : ℕ) (f : Forest) (p : ℕ) → is_top x f ≡ true → in_forest x f ≤ 1 → within p x f ≡ in_forest p (kids_of x f)
kids_inside x f p e le =
    let c = top_counts x f x e in
    let one = same_self x in
    let a = within_absent p x (kids_of x f) (omega (arith, c, one, le)) in
    let b = within_absent p x (others_of x f) (omega (arith, c, one, le)) in
    let w = top_within x f p x e in
    let d = ap (λ b. cond b (in_forest p (kids_of x f)) 0) (eq_self x) in
    omega (arith, a, b, w, d)

-- A part of the rest: what is inside it is as before.
pub kept_inside : (x : ℕ) (f : Forest) (p q : ℕ) → is_top x f ≡ true → in_forest q f ≤ 1 → (0 < in_forest q (kids_of x f) → within p q (kids_of x f) ≡ within p q f) × (0 < in_forest q (others_of x f) → within p q (others_of x f) ≡ within p q f)
kept_inside x f p q e le =
    let c = top_counts x f q e in
    let w = top_within x f p q e in
    let other : 0 < in_forest q (kids_of x f) + in_forest q (others_of x f) → q ≢ x = (λ pos is. let one : same q x ≡ 1 = rw is (same_self x) in omega (arith, one, c, le, pos)) in
    let d : 0 < in_forest q (kids_of x f) + in_forest q (others_of x f) → cond (q == x) (in_forest p (kids_of x f)) 0 ≡ 0 = (λ pos. ap (λ b. cond b (in_forest p (kids_of x f)) 0) (eq_not q x (other pos))) in (
      λ pos. let z = within_absent p q (others_of x f) (omega (arith, c, le, pos)) in let d' = d (omega (arith, pos)) in omega (arith, w, z, d'),
      λ pos. let z = within_absent p q (kids_of x f) (omega (arith, c, le, pos)) in let d' = d (omega (arith, pos)) in omega (arith, w, z, d'),
    )
