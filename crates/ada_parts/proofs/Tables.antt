-- Tables of types: what a type says does not change as newer ones come.

use Rattle.std.proofs.Common.{◌≡◌, ◌≢◌, ℕ, zero, suc, ◌+◌, ◌<◌, ◌≤◌, Bool, false, List, [], ◌∷◌, ◌++◌, length, get_or, refl, sym, ap, ◌∙◌, inl, inr, subst, arith, map, reverse}
use Rattle.std.specs.Prelude.{◌==◌, if◌then◌else◌}
use Rattle.std.specs.List.{All, Contains, flat_map, sum_by}
use Rattle.std.proofs.lemmas.Bool.Decides.{eqb_tells}
use Rattle.std.proofs.Math.Dec.{eqb-suc-suc, eqb-suc-zero}
use Rattle.std.proofs.lemmas.List.{length-append, length-map, length-reverse, get_or-map, map-append}
use Rattle.ada_parts.specs.declared.tasks.Component.{Component}
use Rattle.ada_parts.specs.declared.shapes.Entry.{Entry}
use Rattle.ada_parts.specs.Shape.{Shape, own_parts, parts_of, shape_of, IsTable}
use Rattle.ada_parts.specs.Part.{Part, in_order, components_of, own_part, parts_at}
use Rattle.ada_parts.specs.View.{shape_in, table_of}
use Rattle.ada_parts.proofs.Facts.{eq_self, eq_not, all_head, all_tail, all_cons, all_contained, sum_same, flat_same, reverse_cons, reverse_push}

-- The newest type, and an older one.
pub shape_newest : (s : Shape) (older : List Shape) → shape_of (s ∷ older) (length older) ≡ s
shape_newest s older = ap (λ (b : Bool). if b then s else shape_of older (length older)) (eq_self (length older))

pub shape_older : (s : Shape) (older : List Shape) (t : ℕ) → t ≢ length older → shape_of (s ∷ older) t ≡ shape_of older t
shape_older s older t ne = ap (λ (b : Bool). if b then s else shape_of older t) (eq_not t (length older) ne)

pub parts_newest : (s : Shape) (older : List Shape) → parts_of (s ∷ older) (length older) ≡ own_parts s + sum_by (parts_of older) s.components
parts_newest s older =
    ap (λ (b : Bool). if b then own_parts s + sum_by (parts_of older) s.components else parts_of older (length older)) (eq_self (length older))

pub parts_older : (s : Shape) (older : List Shape) (t : ℕ) → t ≢ length older → parts_of (s ∷ older) t ≡ parts_of older t
parts_older s older t ne =
    ap (λ (b : Bool). if b then own_parts s + sum_by (parts_of older) s.components else parts_of older t) (eq_not t (length older) ne)

-- The parts of a newest type, by what is known of older ones.
abbrev newest_parts : Shape → List Shape → (t p : ℕ) → List Part
newest_parts s older t p =
    own_part s t p ++ flat_map (λ c. parts_at older c.of c.first) (in_order (parts_of older) s.components (p + own_parts s))

pub at_newest : (s : Shape) (older : List Shape) (p : ℕ) → parts_at (s ∷ older) (length older) p ≡ newest_parts s older (length older) p
at_newest s older p =
    ap (λ (b : Bool). if b then newest_parts s older (length older) p else parts_at older (length older) p) (eq_self (length older))

-- A type that is not in the table.
pub shape_unknown : (shapes : List Shape) (t : ℕ) → length shapes ≤ t → shape_of shapes t ≡ record { controlled = false; components = [] }
shape_unknown [] t le = refl
shape_unknown (s ∷ older) t le = shape_older s older t (λ e. omega (arith, e, le)) ∙ shape_unknown older t (omega (arith, le))

pub parts_unknown : (shapes : List Shape) (t : ℕ) → length shapes ≤ t → parts_of shapes t ≡ 0
parts_unknown [] t le = refl
parts_unknown (s ∷ older) t le = parts_older s older t (λ e. omega (arith, e, le)) ∙ parts_unknown older t (omega (arith, le))

pub at_older : (s : Shape) (older : List Shape) (t p : ℕ) → t ≢ length older → parts_at (s ∷ older) t p ≡ parts_at older t p
at_older s older t p ne =
    ap (λ (b : Bool). if b then newest_parts s older t p else parts_at older t p) (eq_not t (length older) ne)

-- Without its newest type a table is one.
pub table_older : (s : Shape) (older : List Shape) → IsTable (s ∷ older) → IsTable older
table_older s older table = record {
  earlier = earlier;
  have_parts = have_parts;
}
  where
    in_whole : (t c : ℕ) → t < length older → Contains (shape_of older t).components c → Contains (shape_of (s ∷ older) t).components c
    in_whole t c lt is = subst (λ (x : Shape). Contains x.components c) (sym (shape_older s older t (λ e. omega (arith, e, lt)))) is

    earlier : (t c : ℕ) → t < length older → Contains (shape_of older t).components c → c < t
    earlier t c lt is = table.earlier t c (omega (arith, lt)) (in_whole t c lt is)

    have_parts : (t c : ℕ) → t < length older → Contains (shape_of older t).components c → 0 < parts_of older c
    have_parts t c lt is =
        let below = earlier t c lt is in
        let e = parts_older s older c (λ e. omega (arith, e, lt, below)) in
        let some = table.have_parts t c (omega (arith, lt)) (in_whole t c lt is) in
        omega (arith, e, some)

-- Components of types below a bound.
order_same : (f g : ℕ → ℕ) (ts : List ℕ) (p : ℕ) → All (λ t. f t ≡ g t) ts → in_order f ts p ≡ in_order g ts p
order_same f g [] p all = refl
order_same f g (t ∷ ts) p all =
    ap (λ (n : ℕ). record { of = t; first = p } ∷ in_order f ts (p + n)) (all_head (λ t. f t ≡ g t) t ts all)
    ∙ ap (λ (cs : List Component). record { of = t; first = p } ∷ cs) (order_same f g ts (p + g t) (all_tail (λ t. f t ≡ g t) t ts all))

pub order_types : (P : Component → Type 0) (f : ℕ → ℕ) (ts : List ℕ) (p : ℕ) → All (λ t. (q : ℕ) → P (record { of = t; first = q })) ts → All P (in_order f ts p)
order_types P f [] p all = λ k d lt. absurd (omega (arith, lt))
order_types P f (t ∷ ts) p all =
    all_cons P (record { of = t; first = p }) (in_order f ts (p + f t))
    (all_head (λ t. (q : ℕ) → P (record { of = t; first = q })) t ts all p)
    (order_types P f ts (p + f t) (all_tail (λ t. (q : ℕ) → P (record { of = t; first = q })) t ts all))

-- How many parts a type has, by its shape.
pub parts_step : (shapes : List Shape) (t : ℕ) → IsTable shapes → t < length shapes → parts_of shapes t ≡ own_parts (shape_of shapes t) + sum_by (parts_of shapes) (shape_of shapes t).components
parts_step [] t table lt = absurd (omega (arith, lt))
parts_step (s ∷ older) t table lt = elim (eqb_tells t (length older)) [ inl h ↦ newest h.1 | inr h ↦ old h.1 (λ less. parts_step older t (table_older s older table) less) ]
  where
    Says : ℕ → Shape → Type 0
    Says t x = parts_of (s ∷ older) t ≡ own_parts x + sum_by (parts_of (s ∷ older)) x.components

    below : (u : ℕ) → u < length (s ∷ older) → All (λ c. parts_of (s ∷ older) c ≡ parts_of older c) (shape_of (s ∷ older) u).components
    below u lt = all_contained (λ c. parts_of (s ∷ older) c ≡ parts_of older c) (shape_of (s ∷ older) u).components
        (λ c is. parts_older s older c (λ e. let l = table.earlier u c lt is in omega (arith, e, l, lt)))

    newest : t ≡ length older → parts_of (s ∷ older) t ≡ own_parts (shape_of (s ∷ older) t) + sum_by (parts_of (s ∷ older)) (shape_of (s ∷ older) t).components
    newest e =
        let b = subst (λ (u : ℕ). All (λ c. parts_of (s ∷ older) c ≡ parts_of older c) (shape_of (s ∷ older) u).components) e (below t lt) in
        let b' = subst (λ (x : Shape). All (λ c. parts_of (s ∷ older) c ≡ parts_of older c) x.components) (shape_newest s older) b in
        let same = sum_same (parts_of (s ∷ older)) (parts_of older) s.components b' in
        let n = parts_newest s older in
        let at : Says (length older) s = omega (arith, same, n) in
        subst (λ (u : ℕ). Says u (shape_of (s ∷ older) u)) (sym e) (subst (Says (length older)) (sym (shape_newest s older)) at)

    old : t ≢ length older → (t < length older → parts_of older t ≡ own_parts (shape_of older t) + sum_by (parts_of older) (shape_of older t).components) → parts_of (s ∷ older) t ≡ own_parts (shape_of (s ∷ older) t) + sum_by (parts_of (s ∷ older)) (shape_of (s ∷ older) t).components
    old ne again =
        let less : t < length older = omega (arith, lt, ne) in
        let same = sum_same (parts_of (s ∷ older)) (parts_of older) (shape_of (s ∷ older) t).components (below t lt) in
        let more = again less in
        let n = parts_older s older t ne in
        let more' : parts_of older t ≡ own_parts (shape_of (s ∷ older) t) + sum_by (parts_of older) (shape_of (s ∷ older) t).components = subst (λ (x : Shape). parts_of older t ≡ own_parts x + sum_by (parts_of older) x.components) (sym (shape_older s older t ne)) more in
        omega (arith, same, more', n)

-- The parts of a type, by its shape.
pub at_step : (shapes : List Shape) (t p : ℕ) → IsTable shapes → t < length shapes → parts_at shapes t p ≡ own_part (shape_of shapes t) t p ++ flat_map (λ c. parts_at shapes c.of c.first) (components_of shapes t p)
at_step [] t p table lt = absurd (omega (arith, lt))
at_step (s ∷ older) t p table lt = elim (eqb_tells t (length older)) [ inl h ↦ newest h.1 | inr h ↦ old h.1 (λ less. at_step older t p (table_older s older table) less) ]
  where
    Says : ℕ → Shape → Type 0
    Says t x = parts_at (s ∷ older) t p ≡ own_part x t p ++ flat_map (λ c. parts_at (s ∷ older) c.of c.first) (in_order (parts_of (s ∷ older)) x.components (p + own_parts x))

    newer : (x : Shape) → All (λ c. c ≢ length older) x.components → flat_map (λ c. parts_at older c.of c.first) (in_order (parts_of older) x.components (p + own_parts x)) ≡ flat_map (λ c. parts_at (s ∷ older) c.of c.first) (in_order (parts_of (s ∷ older)) x.components (p + own_parts x))
    newer x ne =
        flat_same (λ (c : Component). parts_at older c.of c.first) (λ c. parts_at (s ∷ older) c.of c.first) (in_order (parts_of older) x.components (p + own_parts x))
        (order_types (λ c. parts_at older c.of c.first ≡ parts_at (s ∷ older) c.of c.first) (parts_of older) x.components (p + own_parts x)
        (λ k d h q. sym (at_older s older (get_or x.components k d) q (ne k d h))))
        ∙ ap (flat_map (λ (c : Component). parts_at (s ∷ older) c.of c.first))
        (order_same (parts_of older) (parts_of (s ∷ older)) x.components (p + own_parts x) (λ k d h. sym (parts_older s older (get_or x.components k d) (ne k d h))))

    below : All (λ c. c ≢ length older) (shape_of (s ∷ older) t).components
    below = all_contained (λ c. c ≢ length older) (shape_of (s ∷ older) t).components (λ c is e. let l = table.earlier t c lt is in omega (arith, e, l, lt))

    newest : t ≡ length older → Says t (shape_of (s ∷ older) t)
    newest e =
        let b = subst (λ (u : ℕ). All (λ c. c ≢ length older) (shape_of (s ∷ older) u).components) e below in
        let b' = subst (λ (x : Shape). All (λ c. c ≢ length older) x.components) (shape_newest s older) b in
        let at : Says (length older) s = at_newest s older p ∙ ap (λ (ps : List Part). own_part s (length older) p ++ ps) (newer s b') in
        subst (λ (u : ℕ). Says u (shape_of (s ∷ older) u)) (sym e) (subst (Says (length older)) (sym (shape_newest s older)) at)

    old : t ≢ length older → (t < length older → parts_at older t p ≡ newest_parts (shape_of older t) older t p) → Says t (shape_of (s ∷ older) t)
    old ne again =
        let more = again (omega (arith, lt, ne)) in
        let b = subst (λ (x : Shape). All (λ c. c ≢ length older) x.components) (shape_older s older t ne) below in
        subst (Says t) (sym (shape_older s older t ne)) (at_older s older t p ne ∙ more ∙ ap (λ (ps : List Part). own_part (shape_of older t) t p ++ ps) (newer (shape_of older t) b))

-- The shapes of a table that is held oldest first.
shape_last : (xs : List Shape) (x : Shape) → shape_of (xs ++ x ∷ []) 0 ≡ x
shape_last [] x = refl
shape_last (y ∷ ys) x =
    let ne : 0 ≢ length (ys ++ x ∷ []) = λ e. let n = length-append ys (x ∷ []) in omega (arith, e, n) in
    shape_older y (ys ++ x ∷ []) 0 ne ∙ shape_last ys x

shape_next : (xs : List Shape) (x : Shape) (t : ℕ) → shape_of (xs ++ x ∷ []) (suc t) ≡ shape_of xs t
shape_next [] x t = ap (λ (b : Bool). if b then x else shape_of [] (suc t)) (eqb-suc-zero t)
shape_next (y ∷ ys) x t =
    ap (λ (n : ℕ). if suc t == n then y else shape_of (ys ++ x ∷ []) (suc t)) (let n : length (ys ++ x ∷ []) ≡ suc (length ys) = length-append ys (x ∷ []) ∙ omega arith in n)
    ∙ ap (λ (b : Bool). if b then y else shape_of (ys ++ x ∷ []) (suc t)) (eqb-suc-suc t (length ys))
    ∙ ap (λ (z : Shape). if t == length ys then y else z) (shape_next ys x t)

shape_reversed : (xs : List Shape) (t : ℕ) (d : Shape) → t < length xs → shape_of (reverse xs) t ≡ get_or xs t d
shape_reversed [] t d lt = absurd (omega (arith, lt))
shape_reversed (x ∷ xs) zero d lt = ap (λ (ys : List Shape). shape_of ys 0) (reverse_cons x xs) ∙ shape_last (reverse xs) x
shape_reversed (x ∷ xs) (suc t) d lt =
    ap (λ (ys : List Shape). shape_of ys (suc t)) (reverse_cons x xs) ∙ shape_next (reverse xs) x t ∙ shape_reversed xs t d (omega (arith, lt))

pub shape_at : (entries : List Entry) (t : ℕ) (d : Entry) → t < length entries → shape_of (table_of entries) t ≡ shape_in (get_or entries t d)
shape_at entries t d lt =
    shape_reversed (map shape_in entries) t (shape_in d) (let n = length-map entries shape_in in omega (arith, n, lt))
    ∙ get_or-map shape_in entries t d (shape_in d) lt

pub table_length : (entries : List Entry) → length (table_of entries) ≡ length entries
table_length entries = length-reverse (map shape_in entries) ∙ length-map entries shape_in

pub table_push : (entries : List Entry) (e : Entry) → table_of (entries ++ e ∷ []) ≡ shape_in e ∷ table_of entries
table_push entries e = ap reverse (map-append shape_in entries (e ∷ [])) ∙ reverse_push (map shape_in entries) (shape_in e)
