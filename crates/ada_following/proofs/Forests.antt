-- Forests of the parts of records, and what is taken from them.

use Rattle.std.proofs.Common.{◌≡◌, ◌≢◌, ℕ, zero, suc, ◌+◌, ◌<◌, ◌≤◌, Bool, true, false, cond, if◌then◌else◌, List, [], ◌∷◌, ◌++◌, length, Option, Some, None, refl, sym, ap, ◌∙◌, ◌⊎◌, inl, inr, subst, arith}
use Rattle.std.specs.List.{All, flat_map, range_with_len, remove, slice_get}
use Rattle.std.proofs.lemmas.Bool.Decides.{eqb_tells, leb_tells}
use Rattle.std.specs.Prelude.{get_or, ◌==◌}
use Rattle.std.proofs.lemmas.List.{map-append}
use Rattle.ada_parts.specs.declared.tasks.Component.{Component}
use Rattle.ada_parts.specs.Shape.{Shape, IsTable, own_parts, parts_of, shape_of}
use Rattle.ada_parts.specs.Part.{Part, parts_at, own_part, numbers, in_order, components_of}
use Rattle.ada_parts.proofs.Facts.{eq_self, eq_not, all_head, all_tail, all_contained}
use Rattle.ada_parts.proofs.Tables.{shape_newest, shape_older, parts_older, at_newest, at_older, table_older, order_types}
use Rattle.ada_parts.proofs.Numbers.{numbered}
use Rattle.ada_storage.specs.State.{Forest, none, tree, bit, same, in_list, in_forest, is_top, kids_of, others_of}
use Rattle.ada_storage.proofs.Facts.{same_self, same_other}
use Rattle.ada_following.specs.Forests.{both, all_of, around, forest_at, forest_for, forest_of, tops, HasTree}

-- One forest and then another.
pub both_none : (f : Forest) → both f none ≡ f
both_none none = refl
both_none (tree p inside others) = ap (tree p inside) (both_none others)

both_all : (f g h : Forest) → both (both f g) h ≡ both f (both g h)
both_all none g h = refl
both_all (tree p inside others) g h = ap (tree p inside) (both_all others g h)

all_both : (forest : Component → Forest) (xs ys : List Component) → all_of forest (xs ++ ys) ≡ both (all_of forest xs) (all_of forest ys)
all_both forest [] ys = refl
all_both forest (x ∷ xs) ys = ap (both (forest x)) (all_both forest xs ys) ∙ sym (both_all (forest x) (all_of forest xs) (all_of forest ys))

pub of_both : (shapes : List Shape) (xs ys : List Component) → forest_of shapes (xs ++ ys) ≡ both (forest_of shapes xs) (forest_of shapes ys)
of_both shapes xs ys = all_both (λ c. forest_at shapes c.of c.first) xs ys

-- The parts of a type, by its shape.
newest_at : (s : Shape) (older : List Shape) (p : ℕ) → forest_at (s ∷ older) (length older) p ≡ around s p (all_of (λ c. forest_at older c.of c.first) (in_order (parts_of older) s.components (p + own_parts s)))
newest_at s older p =
    ap (λ (b : Bool). if b then around s p (all_of (λ c. forest_at older c.of c.first) (in_order (parts_of older) s.components (p + own_parts s))) else forest_at older (length older) p) (eq_self (length older))

older_at : (s : Shape) (older : List Shape) (t p : ℕ) → t ≢ length older → forest_at (s ∷ older) t p ≡ forest_at older t p
older_at s older t p ne =
    ap (λ (b : Bool). if b then around s p (all_of (λ c. forest_at older c.of c.first) (in_order (parts_of older) s.components (p + own_parts s))) else forest_at older t p) (eq_not t (length older) ne)

order_same : (f g : ℕ → ℕ) (ts : List ℕ) (p : ℕ) → All (λ t. f t ≡ g t) ts → in_order f ts p ≡ in_order g ts p
order_same f g [] p all = refl
order_same f g (t ∷ ts) p all =
    ap (λ (n : ℕ). record { of = t; first = p } ∷ in_order f ts (p + n)) (all_head (λ t. f t ≡ g t) t ts all)
    ∙ ap (λ (cs : List Component). record { of = t; first = p } ∷ cs) (order_same f g ts (p + g t) (all_tail (λ t. f t ≡ g t) t ts all))

all_same : (f g : Component → Forest) (cs : List Component) → All (λ c. f c ≡ g c) cs → all_of f cs ≡ all_of g cs
all_same f g [] all = refl
all_same f g (c ∷ cs) all =
    ap (λ (h : Forest). both h (all_of f cs)) (all_head (λ c. f c ≡ g c) c cs all) ∙ ap (both (g c)) (all_same f g cs (all_tail (λ c. f c ≡ g c) c cs all))

known_at : (shapes : List Shape) (t p : ℕ) → IsTable shapes → t < length shapes → forest_at shapes t p ≡ around (shape_of shapes t) p (forest_of shapes (components_of shapes t p))
known_at [] t p table lt = absurd (omega (arith, lt))
known_at (s ∷ older) t p table lt = elim (eqb_tells t (length older)) [ inl h ↦ newest h.1 | inr h ↦ old h.1 (λ less. known_at older t p (table_older s older table) less) ]
  where
    Says : ℕ → Shape → Type 0
    Says t x = forest_at (s ∷ older) t p ≡ around x p (forest_of (s ∷ older) (in_order (parts_of (s ∷ older)) x.components (p + own_parts x)))

    newer : (x : Shape) → All (λ c. c ≢ length older) x.components → forest_of older (in_order (parts_of older) x.components (p + own_parts x)) ≡ forest_of (s ∷ older) (in_order (parts_of (s ∷ older)) x.components (p + own_parts x))
    newer x ne =
        all_same (λ (c : Component). forest_at older c.of c.first) (λ c. forest_at (s ∷ older) c.of c.first) (in_order (parts_of older) x.components (p + own_parts x))
        (order_types (λ c. forest_at older c.of c.first ≡ forest_at (s ∷ older) c.of c.first) (parts_of older) x.components (p + own_parts x)
        (λ k d h q. sym (older_at s older (get_or x.components k d) q (ne k d h))))
        ∙ ap (forest_of (s ∷ older))
        (order_same (parts_of older) (parts_of (s ∷ older)) x.components (p + own_parts x) (λ k d h. sym (parts_older s older (get_or x.components k d) (ne k d h))))

    below : All (λ c. c ≢ length older) (shape_of (s ∷ older) t).components
    below = all_contained (λ c. c ≢ length older) (shape_of (s ∷ older) t).components (λ c is e. let l = table.earlier t c lt is in omega (arith, e, l, lt))

    newest : t ≡ length older → Says t (shape_of (s ∷ older) t)
    newest e =
        let b = subst (λ (u : ℕ). All (λ c. c ≢ length older) (shape_of (s ∷ older) u).components) e below in
        let b' = subst (λ (x : Shape). All (λ c. c ≢ length older) x.components) (shape_newest s older) b in
        let at : Says (length older) s = newest_at s older p ∙ ap (around s p) (newer s b') in
        subst (λ (u : ℕ). Says u (shape_of (s ∷ older) u)) (sym e) (subst (Says (length older)) (sym (shape_newest s older)) at)

    old : t ≢ length older → (t < length older → forest_at older t p ≡ around (shape_of older t) p (forest_of older (components_of older t p))) → Says t (shape_of (s ∷ older) t)
    old ne again =
        let more = again (omega (arith, lt, ne)) in
        let b = subst (λ (x : Shape). All (λ c. c ≢ length older) x.components) (shape_older s older t ne) below in
        subst (Says t) (sym (shape_older s older t ne)) (older_at s older t p ne ∙ more ∙ ap (around (shape_of older t) p) (newer (shape_of older t) b))

unknown_shape : (shapes : List Shape) (t : ℕ) → length shapes ≤ t → shape_of shapes t ≡ record { controlled = false; components = [] }
unknown_shape [] t le = refl
unknown_shape (s ∷ older) t le = shape_older s older t (λ e. omega (arith, e, le)) ∙ unknown_shape older t (omega (arith, le))

unknown_at : (shapes : List Shape) (t p : ℕ) → length shapes ≤ t → forest_at shapes t p ≡ none
unknown_at [] t p le = refl
unknown_at (s ∷ older) t p le = older_at s older t p (λ e. omega (arith, e, le)) ∙ unknown_at older t p (omega (arith, le))

pub at_step : (shapes : List Shape) (t p : ℕ) → IsTable shapes → forest_at shapes t p ≡ around (shape_of shapes t) p (forest_of shapes (components_of shapes t p))
at_step shapes t p table = elim (leb_tells (length shapes) t) [ inl h ↦ unknown h.1 | inr h ↦ known_at shapes t p table (let l = h.1 in omega (arith, l)) ]
  where
    unknown : length shapes ≤ t → forest_at shapes t p ≡ around (shape_of shapes t) p (forest_of shapes (components_of shapes t p))
    unknown le =
        unknown_at shapes t p le
        ∙ sym (ap (λ (s : Shape). around s p (forest_of shapes (in_order (parts_of shapes) s.components (p + own_parts s)))) (unknown_shape shapes t le))

-- Each part is there once.
pub in_both : (q : ℕ) (f g : Forest) → in_forest q (both f g) ≡ in_forest q f + in_forest q g
in_both q none g = omega arith
in_both q (tree p inside others) g = let e = in_both q others g in omega (arith, e)

list_both : (q : ℕ) (xs ys : List ℕ) → in_list q (xs ++ ys) ≡ in_list q xs + in_list q ys
list_both q [] ys = omega arith
list_both q (x ∷ xs) ys = let e = list_both q xs ys in omega (arith, e)

pub numbers_both : (q : ℕ) (xs ys : List Part) → in_list q (numbers (xs ++ ys)) ≡ in_list q (numbers xs) + in_list q (numbers ys)
numbers_both q xs ys = ap (in_list q) (map-append (λ (p : Part). p.number) xs ys) ∙ list_both q (numbers xs) (numbers ys)

pub counts_all : (q : ℕ) (f : Component → Forest) (g : Component → List Part) (cs : List Component) → ((c : Component) → in_forest q (f c) ≡ in_list q (numbers (g c))) → in_forest q (all_of f cs) ≡ in_list q (numbers (flat_map g cs))
counts_all q f g [] each = refl
counts_all q f g (c ∷ cs) each =
    let a = in_both q (f c) (all_of f cs) in
    let b = numbers_both q (g c) (flat_map g cs) in
    let e = each c in
    let r = counts_all q f g cs each in
    omega (arith, a, b, e, r)

pub around_counts : (q : ℕ) (s : Shape) (t p : ℕ) (f : Forest) (ps : List Part) → in_forest q f ≡ in_list q (numbers ps) → in_forest q (around s p f) ≡ in_list q (numbers (own_part s t p ++ ps))
around_counts q s t p f ps e = go s.controlled
  where
    go : (b : Bool) → in_forest q (if b then tree p f none else f) ≡ in_list q (numbers ((if b then record { of = t; number = p } ∷ [] else []) ++ ps))
    go true = omega (arith, e)
    go false = e

pub counted_at : (shapes : List Shape) (q t p : ℕ) → in_forest q (forest_at shapes t p) ≡ in_list q (numbers (parts_at shapes t p))
counted_at [] q t p = refl
counted_at (s ∷ older) q t p = elim (eqb_tells t (length older)) [ inl h ↦ newest h.1 (λ u r. counted_at older q u r) | inr h ↦ ap (in_forest q) (older_at s older t p h.1) ∙ counted_at older q t p ∙ ap (λ (ps : List Part). in_list q (numbers ps)) (sym (at_older s older t p h.1)) ]
  where
    newest : t ≡ length older → ((u r : ℕ) → in_forest q (forest_at older u r) ≡ in_list q (numbers (parts_at older u r))) → in_forest q (forest_at (s ∷ older) t p) ≡ in_list q (numbers (parts_at (s ∷ older) t p))
    newest e each =
        subst (λ (u : ℕ). in_forest q (forest_at (s ∷ older) u p) ≡ in_list q (numbers (parts_at (s ∷ older) u p))) (sym e)
        (ap (in_forest q) (newest_at s older p)
        ∙ around_counts q s (length older) p (all_of (λ c. forest_at older c.of c.first) (in_order (parts_of older) s.components (p + own_parts s)))
        (flat_map (λ c. parts_at older c.of c.first) (in_order (parts_of older) s.components (p + own_parts s)))
        (counts_all q (λ c. forest_at older c.of c.first) (λ c. parts_at older c.of c.first) (in_order (parts_of older) s.components (p + own_parts s)) (λ c. each c.of c.first))
        ∙ ap (λ (ps : List Part). in_list q (numbers ps)) (sym (at_newest s older p)))

range_above : (q p n : ℕ) → q < p → in_list q (range_with_len p n) ≡ 0
range_above q p zero lt = refl
range_above q p (suc n) lt =
    let a = same_other q p (λ e. omega (arith, e, lt)) in
    let b = range_above q (p + 1) n (omega (arith, lt)) in
    omega (arith, a, b)

range_once : (q p n : ℕ) → in_list q (range_with_len p n) ≤ 1
range_once q p zero = omega arith
range_once q p (suc n) = elim (eqb_tells q p) [ inl h ↦ here h.0 h.1 (range_above q (p + 1) n) | inr h ↦ later h.0 (range_once q (p + 1) n) ]
  where
    here : (q == p) ≡ true → q ≡ p → (q < p + 1 → in_list q (range_with_len (p + 1) n) ≡ 0) → in_list q (range_with_len p (suc n)) ≤ 1
    here b e above =
        let a = above (omega (arith, e)) in
        let one : same q p ≡ 1 = ap bit b in
        omega (arith, a, one)

    later : (q == p) ≡ false → in_list q (range_with_len (p + 1) n) ≤ 1 → in_list q (range_with_len p (suc n)) ≤ 1
    later b le = let zero' : same q p ≡ 0 = ap bit b in omega (arith, zero', le)

pub simple_at : (shapes : List Shape) (t p q : ℕ) → in_forest q (forest_at shapes t p) ≤ 1
simple_at shapes t p q =
    let a = counted_at shapes q t p in
    let b = ap (in_list q) (numbered shapes t p) in
    let c = range_once q p (parts_of shapes t) in
    omega (arith, a, b, c)

pub simple_for : (shapes : List Shape) (t : Option ℕ) (q : ℕ) → in_forest q (forest_for shapes t) ≤ 1
simple_for shapes None q = omega arith
simple_for shapes (Some t) q = simple_at shapes t 0 q

-- What is outermost.
pub tops_both : (x : ℕ) (f g : Forest) → tops x (both f g) ≡ tops x f + tops x g
tops_both x none g = omega arith
tops_both x (tree p inside others) g = let e = tops_both x others g in omega (arith, e)

pub tree_first : (x : ℕ) (k f g : Forest) → HasTree x k f → HasTree x k (both f g)
tree_first x k none g h = absurd h
tree_first x k (tree p inside others) g (inl h) = inl h
tree_first x k (tree p inside others) g (inr h) = inr (tree_first x k others g h)

pub tree_later : (x : ℕ) (k f g : Forest) → HasTree x k g → HasTree x k (both f g)
tree_later x k none g h = h
tree_later x k (tree p inside others) g h = inr (tree_later x k others g h)

pub tree_either : (x : ℕ) (k f g : Forest) → HasTree x k (both f g) → HasTree x k f ⊎ HasTree x k g
tree_either x k none g h = inr h
tree_either x k (tree p inside others) g (inl h) = inl (inl h)
tree_either x k (tree p inside others) g (inr h) = elim (tree_either x k others g h) [ inl a ↦ inl (inr a) | inr b ↦ inr b ]

pub tree_counts : (x : ℕ) (k f : Forest) → HasTree x k f → 0 < tops x f
tree_counts x k none h = absurd h
tree_counts x k (tree p inside others) (inl h) = let one : same x p ≡ 1 = ap (same x) (sym h.0) ∙ same_self x in omega (arith, one)
tree_counts x k (tree p inside others) (inr h) = let some = tree_counts x k others h in omega (arith, some)

pub tops_le : (x : ℕ) (f : Forest) → tops x f ≤ in_forest x f
tops_le x none = omega arith
tops_le x (tree p inside others) = let le = tops_le x others in omega (arith, le)

pub no_tops : (f : Forest) → ((x : ℕ) → tops x f ≡ 0) → f ≡ none
no_tops none z = refl
no_tops (tree p inside others) z = let some = z p in let one = same_self p in absurd (omega (arith, some, one))

pub top_is : (x : ℕ) (k f : Forest) → HasTree x k f → is_top x f ≡ true
top_is x k none h = absurd h
top_is x k (tree p inside others) (inl h) = ap (λ (y : ℕ). cond (y == p) true (is_top y others)) h.0 ∙ ap (λ (b : Bool). cond b true (is_top p others)) (eq_self p)
top_is x k (tree p inside others) (inr h) = go (x == p) (top_is x k others h)
  where
    go : (b : Bool) → is_top x others ≡ true → cond b true (is_top x others) ≡ true
    go true is = refl
    go false is = is

pub kids_are : (x : ℕ) (k f : Forest) → HasTree x k f → tops x f ≤ 1 → kids_of x f ≡ k
kids_are x k none h le = absurd h
kids_are x k (tree p inside others) (inl h) le =
    ap (λ (y : ℕ). cond (y == p) inside (kids_of y others)) h.0 ∙ ap (λ (b : Bool). cond b inside (kids_of p others)) (eq_self p) ∙ sym h.1
kids_are x k (tree p inside others) (inr h) le =
    let some = tree_counts x k others h in
    elim (eqb_tells x p) [
      | inl e ↦ (let one : same x p ≡ 1 = ap bit e.0 in absurd (omega (arith, one, some, le)))
      | inr e ↦ (ap (λ (b : Bool). cond b inside (kids_of x others)) e.0 ∙ kids_are x k others h (omega (arith, le)))
    ]

others_here : (x p : ℕ) (inside others : Forest) → (x == p) ≡ true → others_of x (tree p inside others) ≡ others
others_here x p inside others e = ap (λ (b : Bool). cond b others (tree p inside (others_of x others))) e

others_there : (x p : ℕ) (inside others : Forest) → (x == p) ≡ false → others_of x (tree p inside others) ≡ tree p inside (others_of x others)
others_there x p inside others e = ap (λ (b : Bool). cond b others (tree p inside (others_of x others))) e

pub others_count : (x y : ℕ) (k f : Forest) → HasTree x k f → tops y f ≡ same y x + tops y (others_of x f)
others_count x y k none h = absurd h
others_count x y k (tree p inside others) h = elim (eqb_tells x p) [ inl e ↦ here e.0 e.1 | inr e ↦ there' e.0 e.1 h (λ g. others_count x y k others g) ]
  where
    here : (x == p) ≡ true → x ≡ p → tops y (tree p inside others) ≡ same y x + tops y (others_of x (tree p inside others))
    here b e = ap (λ (z : ℕ). same y z + tops y others) (sym e) ∙ ap (λ (f : Forest). same y x + tops y f) (sym (others_here x p inside others b))

    there' : (x == p) ≡ false → x ≢ p → HasTree x k (tree p inside others) → (HasTree x k others → tops y others ≡ same y x + tops y (others_of x others)) → tops y (tree p inside others) ≡ same y x + tops y (others_of x (tree p inside others))
    there' b ne (inl g) again = absurd (ne g.0)
    there' b ne (inr g) again =
        let r = again g in
        let e : same y x + tops y (tree p inside (others_of x others)) ≡ same y x + tops y (others_of x (tree p inside others)) =
        ap (λ (f : Forest). same y x + tops y f) (sym (others_there x p inside others b)) in
        omega (arith, r, e)

pub others_keep : (x y : ℕ) (k f : Forest) → y ≢ x → HasTree y k f → HasTree y k (others_of x f)
others_keep x y k none ne h = absurd h
others_keep x y k (tree p inside others) ne h = elim (eqb_tells x p) [
  | inl e ↦ (subst (HasTree y k) (sym (others_here x p inside others e.0)) (here e.1 h))
  | inr e ↦ (subst (HasTree y k) (sym (others_there x p inside others e.0)) (there' h (λ g. others_keep x y k others ne g)))
]
  where
    here : x ≡ p → HasTree y k (tree p inside others) → HasTree y k others
    here e (inl g) = absurd (ne (g.0 ∙ sym e))
    here e (inr g) = g

    there' : HasTree y k (tree p inside others) → (HasTree y k others → HasTree y k (others_of x others)) → HasTree y k (tree p inside (others_of x others))
    there' (inl g) again = inl g
    there' (inr g) again = inr (again g)

-- One of some components is picked.
pub pick_counts : (shapes : List Shape) (cs : List Component) (i : ℕ) (c : Component) (x : ℕ) → slice_get cs i ≡ Some c → tops x (forest_of shapes cs) ≡ tops x (forest_at shapes c.of c.first) + tops x (forest_of shapes (remove cs i))
pick_counts shapes [] i c x is = absurd (cc)
pick_counts shapes (d ∷ cs) zero c x is =
    let one : d ≡ c = cc in
    tops_both x (forest_at shapes d.of d.first) (forest_of shapes cs) ∙ ap (λ (e : Component). tops x (forest_at shapes e.of e.first) + tops x (forest_of shapes cs)) one
pick_counts shapes (d ∷ cs) (suc i) c x is =
    let a = tops_both x (forest_at shapes d.of d.first) (forest_of shapes cs) in
    let b = tops_both x (forest_at shapes d.of d.first) (forest_of shapes (remove cs i)) in
    let r = pick_counts shapes cs i c x is in
    omega (arith, a, b, r)

pub pick_here : (shapes : List Shape) (cs : List Component) (i : ℕ) (c : Component) (x : ℕ) (k : Forest) → slice_get cs i ≡ Some c → HasTree x k (forest_at shapes c.of c.first) → HasTree x k (forest_of shapes cs)
pick_here shapes [] i c x k is h = absurd (cc)
pick_here shapes (d ∷ cs) zero c x k is h =
    let one : d ≡ c = cc in
    tree_first x k (forest_at shapes d.of d.first) (forest_of shapes cs) (subst (λ (e : Component). HasTree x k (forest_at shapes e.of e.first)) (sym one) h)
pick_here shapes (d ∷ cs) (suc i) c x k is h = tree_later x k (forest_at shapes d.of d.first) (forest_of shapes cs) (pick_here shapes cs i c x k is h)

pub pick_others : (shapes : List Shape) (cs : List Component) (i : ℕ) (x : ℕ) (k : Forest) → HasTree x k (forest_of shapes (remove cs i)) → HasTree x k (forest_of shapes cs)
pick_others shapes [] zero x k h = h
pick_others shapes [] (suc i) x k h = h
pick_others shapes (d ∷ cs) zero x k h = tree_later x k (forest_at shapes d.of d.first) (forest_of shapes cs) h
pick_others shapes (d ∷ cs) (suc i) x k h =
    elim (tree_either x k (forest_at shapes d.of d.first) (forest_of shapes (remove cs i)) h) [
      | inl a ↦ tree_first x k (forest_at shapes d.of d.first) (forest_of shapes cs) a
      | inr b ↦ tree_later x k (forest_at shapes d.of d.first) (forest_of shapes cs) (pick_others shapes cs i x k b)
    ]
