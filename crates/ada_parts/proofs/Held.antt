-- What the code holds: stacks whose tops come next.

use Rattle.std.proofs.Common.{◌≡◌, ◌≢◌, ℕ, zero, suc, ◌+◌, ◌<◌, ◌≤◌, Bool, true, false, List, [], ◌∷◌, ◌++◌, length, get_or, refl, sym, ap, ◌∙◌, inl, inr, subst, arith, take, drop, reverse, append_assoc}
use Rattle.std.specs.Prelude.{Option, Some, None, if◌then◌else◌}
use Rattle.std.specs.List.{All, Contains, remove, slice_get, sum_by}
use Rattle.std.proofs.lemmas.List.{reverse-append, reverse-reverse, length-append, length-reverse, length-drop, take_at, drop_at, get_or_append_left, get_or_at}
use Rattle.std.proofs.lemmas.Bool.Decides.{eqb_tells}
use Rattle.ada_parts.specs.declared.shapes.Entry.{Entry}
use Rattle.ada_parts.specs.declared.tasks.Component.{Component}
use Rattle.ada_parts.specs.declared.tasks.Direction.{Direction}
use Rattle.ada_parts.specs.declared.tasks.Direction.TheVariants.{PartsFirst, WholeFirst}
use Rattle.ada_parts.specs.declared.tasks.Step.{Step}
use Rattle.ada_parts.specs.declared.tasks.Step.TheVariants.{Call, Treat}
use Rattle.ada_parts.specs.Shape.{Shape, own_parts, parts_of, shape_of, IsTable}
use Rattle.ada_parts.specs.Part.{in_order, components_of}
use Rattle.ada_parts.specs.Task.{Task, performs, treats, treatment_of, operation_of, opened, without, open_at, OfComponents}
use Rattle.ada_parts.specs.View.{shape_in, table_of, Counts, IsCounted, tasks_of, left_in}
use Rattle.ada_parts.proofs.Facts.{all_head, all_tail, all_cons, all_none, all_contained, contained, reverse_cons, reverse_push}
use Rattle.ada_parts.proofs.Tables.{shape_at, shape_newest, shape_older, parts_newest, parts_older, table_length, table_push}

-- An entry of a table says what its type is.
pub entry_says : (entries : List Entry) (table : List Shape) (t : ℕ) (e : Entry) → table_of entries ≡ table → t < length table → e ≡ get_or entries t e → shape_of table t ≡ shape_in e
entry_says entries table t e is lt at =
    let n = table_length entries in
    let m = ap length is in
    ap (λ (x : List Shape). shape_of x t) (sym is) ∙ shape_at entries t e (omega (arith, n, m, lt)) ∙ ap shape_in (sym at)

-- A type of a number is in the table, or is not.
pub known_by : (entries : List Entry) (table : List Shape) (t n : ℕ) → table_of entries ≡ table → n ≡ length entries → t < n → t < length table
known_by entries table t n is count lt =
    let m = table_length entries in
    let k = ap length is in
    omega (arith, m, k, count, lt)

pub unknown_by : (entries : List Entry) (table : List Shape) (t n : ℕ) → table_of entries ≡ table → n ≡ length entries → n ≤ t → length table ≤ t
unknown_by entries table t n is count ge =
    let m = table_length entries in
    let k = ap length is in
    omega (arith, m, k, count, ge)

-- The components of a type in the table are in the table.
pub known_components : (table : List Shape) (t : ℕ) → IsTable table → t < length table → All (λ c. c < length table) (shape_of table t).components
known_components table t is lt =
    all_contained (λ c. c < length table) (shape_of table t).components (λ c has. let l = is.earlier t c lt has in omega (arith, l, lt))

-- A newer type, whose components are in the table and have parts.
pub table_newer : (s : Shape) (older : List Shape) → IsTable older → All (λ c. (c < length older) × (0 < parts_of older c)) s.components → IsTable (s ∷ older)
table_newer s older table all = record {
  earlier = earlier;
  have_parts = have_parts;
}
  where
    earlier : (t c : ℕ) → t < length (s ∷ older) → Contains (shape_of (s ∷ older) t).components c → c < t
    earlier t c lt has = elim (eqb_tells t (length older)) [ inl h ↦ newest h.1 | inr h ↦ old h.1 ]
      where
        newest : t ≡ length older → c < t
        newest e =
            let has' = subst (λ (x : Shape). Contains x.components c) (ap (shape_of (s ∷ older)) e ∙ shape_newest s older) has in
            let l = (contained (λ c. (c < length older) × (0 < parts_of older c)) s.components c all has').0 in
            omega (arith, l, e)

        old : t ≢ length older → c < t
        old ne = table.earlier t c (omega (arith, ne, lt)) (subst (λ (x : Shape). Contains x.components c) (shape_older s older t ne) has)

    have_parts : (t c : ℕ) → t < length (s ∷ older) → Contains (shape_of (s ∷ older) t).components c → 0 < parts_of (s ∷ older) c
    have_parts t c lt has =
        let below = earlier t c lt has in
        let e = parts_older s older c (λ e. omega (arith, e, lt, below)) in
        elim (eqb_tells t (length older)) [ inl h ↦ newest e h.1 | inr h ↦ old e h.1 ]
      where
        newest : parts_of (s ∷ older) c ≡ parts_of older c → t ≡ length older → 0 < parts_of (s ∷ older) c
        newest e at =
            let has' = subst (λ (x : Shape). Contains x.components c) (ap (shape_of (s ∷ older)) at ∙ shape_newest s older) has in
            let l = (contained (λ c. (c < length older) × (0 < parts_of older c)) s.components c all has').1 in
            omega (arith, l, e)

        old : parts_of (s ∷ older) c ≡ parts_of older c → t ≢ length older → 0 < parts_of (s ∷ older) c
        old e ne =
            let l = table.have_parts t c (omega (arith, ne, lt)) (subst (λ (x : Shape). Contains x.components c) (shape_older s older t ne) has) in
            omega (arith, l, e)

-- A new entry.
pub counted_push : (entries : List Entry) (e : Entry) → IsCounted entries → All (λ c. (c < length (table_of entries)) × (0 < parts_of (table_of entries) c)) e.components.items → Counts e.parts (own_parts (shape_in e) + sum_by (parts_of (table_of entries)) e.components.items) → IsCounted (entries ++ e ∷ [])
counted_push entries e is all parts = record {
  table = subst IsTable (sym (table_push entries e)) (table_newer (shape_in e) (table_of entries) is.table all);
  counts = counts;
}
  where
    counts : (t : ℕ) (d : Entry) → t < length (entries ++ e ∷ []) → Counts (get_or (entries ++ e ∷ []) t d).parts (parts_of (table_of (entries ++ e ∷ [])) t)
    counts t d lt = elim (eqb_tells t (length entries)) [ inl h ↦ newest h.1 | inr h ↦ old h.1 ]
      where
        newest : t ≡ length entries → Counts (get_or (entries ++ e ∷ []) t d).parts (parts_of (table_of (entries ++ e ∷ [])) t)
        newest at =
            let known =
            sym (parts_newest (shape_in e) (table_of entries))
            ∙ ap (parts_of (shape_in e ∷ table_of entries)) (table_length entries ∙ sym at)
            ∙ ap (λ (x : List Shape). parts_of x t) (sym (table_push entries e)) in
            subst (λ (x : Entry). Counts x.parts (parts_of (table_of (entries ++ e ∷ [])) t)) (sym (get_or_at entries e [] d t (sym at)))
            (subst (λ (n : ℕ). Counts e.parts n) known parts)

        old : t ≢ length entries → Counts (get_or (entries ++ e ∷ []) t d).parts (parts_of (table_of (entries ++ e ∷ [])) t)
        old ne =
            let n = length-append entries (e ∷ []) in
            let less : t < length entries = omega (arith, n, ne, lt) in
            let other : t ≢ length (table_of entries) = λ x. ne (x ∙ table_length entries) in
            let known =
            sym (parts_older (shape_in e) (table_of entries) t other)
            ∙ ap (λ (x : List Shape). parts_of x t) (sym (table_push entries e)) in
            subst (λ (x : Entry). Counts x.parts (parts_of (table_of (entries ++ e ∷ [])) t)) (sym (get_or_append_left entries (e ∷ []) d t less))
            (subst (λ (n : ℕ). Counts (get_or entries t d).parts n) known (is.counts t d less))

-- Steps that are put on what is left.
pub call_put : (steps : List Step) (of part : ℕ) (cs : List Component) → left_in (steps ++ Call of part ∷ []) cs ≡ performs of part ∷ left_in steps cs
call_put steps of part cs = ap (λ (x : List Step). tasks_of x (reverse cs)) (reverse_push steps (Call of part))

pub treat_put : (steps : List Step) (others : ℕ) (old new : List Component) → length new ≡ others + 1 → left_in (steps ++ Treat others ∷ []) (old ++ reverse new) ≡ treats new ∷ left_in steps old
treat_put steps others old new n =
    ap (λ (x : List Step). tasks_of x (reverse (old ++ reverse new))) (reverse_push steps (Treat others))
    ∙ ap (tasks_of (Treat others ∷ reverse steps)) (reverse-append old (reverse new) ∙ ap (λ (x : List Component). x ++ reverse old) (reverse-reverse new))
    ∙ ap (λ (x : List Component). treats x ∷ tasks_of (reverse steps) (drop (others + 1) (new ++ reverse old))) (take_at new (reverse old) (others + 1) n)
    ∙ ap (λ (x : List Component). treats new ∷ tasks_of (reverse steps) x) (drop_at new (reverse old) (others + 1) n)

pub treatment_full : (cs : List Component) → 0 < length cs → treatment_of cs ≡ treats cs ∷ []
treatment_full [] some = absurd (omega (arith, some))
treatment_full (c ∷ cs) some = refl

-- How many components there are of so many types.
pub order_length : (f : ℕ → ℕ) (ts : List ℕ) (p : ℕ) → length (in_order f ts p) ≡ length ts
order_length f [] p = refl
order_length f (t ∷ ts) p = ap suc (order_length f ts (p + f t))

-- An element and what stands before and behind it.
pub split_at : {X : Type 0} (xs : List X) (n : ℕ) (d : X) → n < length xs → xs ≡ take n xs ++ get_or xs n d ∷ drop (suc n) xs
split_at [] n d lt = absurd (omega (arith, lt))
split_at (x ∷ xs) zero d lt = refl
split_at {X} (x ∷ xs) (suc n) d lt = ap (λ (ys : List X). x ∷ ys) (split_at xs n d (omega (arith, lt)))

pub remove_middle : {X : Type 0} (a : List X) (x : X) (b : List X) → remove (a ++ x ∷ b) (length a) ≡ a ++ b
remove_middle [] x b = refl
remove_middle {X} (y ∷ a) x b = ap (λ (ys : List X). y ∷ ys) (remove_middle a x b)

pub get_middle : {X : Type 0} (a : List X) (x : X) (b : List X) → slice_get (a ++ x ∷ b) (length a) ≡ Some x
get_middle [] x b = refl
get_middle (y ∷ a) x b = get_middle a x b

pub reverse_middle : {X : Type 0} (a : List X) (x : X) (b : List X) → reverse (a ++ x ∷ b) ≡ reverse b ++ x ∷ reverse a
reverse_middle {X} a x b =
    reverse-append a (x ∷ b) ∙ ap (λ (ys : List X). ys ++ reverse a) (reverse_cons x b) ∙ append_assoc (reverse b) (x ∷ []) (reverse a)

-- The same element, from the end.
pub get_reversed : {X : Type 0} (xs : List X) (at i : ℕ) (d : X) → at + 1 + i ≡ length xs → slice_get (reverse xs) i ≡ Some (get_or xs at d)
get_reversed {X} xs at i d n =
    let split = split_at xs at d (omega (arith, n)) in
    let b = drop (suc at) xs in
    let e : length (reverse b) ≡ i = length-reverse b ∙ (let m = length-drop (suc at) xs in omega (arith, m, n)) in
    ap (λ (ys : List X). slice_get (reverse ys) i) split
    ∙ ap (λ (ys : List X). slice_get ys i) (reverse_middle (take at xs) (get_or xs at d) b)
    ∙ ap (slice_get (reverse b ++ get_or xs at d ∷ reverse (take at xs))) (sym e)
    ∙ get_middle (reverse b) (get_or xs at d) (reverse (take at xs))

pub remove_reversed : {X : Type 0} (xs : List X) (at i : ℕ) (d : X) → at + 1 + i ≡ length xs → reverse (remove xs at) ≡ remove (reverse xs) i
remove_reversed {X} xs at i d n =
    let split = split_at xs at d (omega (arith, n)) in
    let b = drop (suc at) xs in
    let e : length (reverse b) ≡ i = length-reverse b ∙ (let m = length-drop (suc at) xs in omega (arith, m, n)) in
    reverse-append (take at xs) b
    ∙ sym (remove_middle (reverse b) (get_or xs at d) (reverse (take at xs)))
    ∙ ap (remove (reverse b ++ get_or xs at d ∷ reverse (take at xs))) e
    ∙ ap (λ (ys : List X). remove ys i) (sym (ap reverse split ∙ reverse_middle (take at xs) (get_or xs at d) b))

pub remove_take : {X : Type 0} (n i : ℕ) (xs : List X) → i < suc n → i < length xs → remove (take (suc n) xs) i ≡ take n (remove xs i)
remove_take n i [] a b = absurd (omega (arith, b))
remove_take n zero (x ∷ xs) a b = refl
remove_take zero (suc i) (x ∷ xs) a b = absurd (omega (arith, a))
remove_take {X} (suc n) (suc i) (x ∷ xs) a b = ap (λ (ys : List X). x ∷ ys) (remove_take n i xs (omega (arith, a)) (omega (arith, b)))

pub drop_remove : {X : Type 0} (n i : ℕ) (xs : List X) → i < suc n → i < length xs → drop n (remove xs i) ≡ drop (suc n) xs
drop_remove n i [] a b = absurd (omega (arith, b))
drop_remove n zero (x ∷ xs) a b = refl
drop_remove zero (suc i) (x ∷ xs) a b = absurd (omega (arith, a))
drop_remove (suc n) (suc i) (x ∷ xs) a b = drop_remove n i xs (omega (arith, a)) (omega (arith, b))

pub get_take : {X : Type 0} (n i : ℕ) (xs : List X) → i < n → slice_get (take n xs) i ≡ slice_get xs i
get_take zero i xs lt = absurd (omega (arith, lt))
get_take (suc n) i [] lt = refl
get_take (suc n) zero (x ∷ xs) lt = refl
get_take (suc n) (suc i) (x ∷ xs) lt = get_take n i xs (omega (arith, lt))

-- The treatment of components is put on what is left.
pub treatment_put : (steps after : List Step) (old new cs : List Component) (others : ℕ) → after ≡ steps ++ Treat others ∷ [] → new ≡ old ++ reverse cs → length cs ≡ others + 1 → left_in after new ≡ treatment_of cs ++ left_in steps old
treatment_put steps after old new cs others e f n =
    ap (λ (x : List Step). left_in x new) e
    ∙ ap (left_in (steps ++ Treat others ∷ [])) f
    ∙ treat_put steps others old cs n
    ∙ ap (λ (x : List Task). x ++ left_in steps old) (sym (treatment_full cs (omega (arith, n))))

-- A fact on components of a list of tasks.
pub of_append : (P : Component → Type 0) (a b : List Task) → OfComponents P a → OfComponents P b → OfComponents P (a ++ b)
of_append P [] b x y = y
of_append P (treats cs ∷ a) b x y = (x.0, of_append P a b x.1 y)
of_append P (performs of part ∷ a) b x y = of_append P a b x y

pub of_treatment : (P : Component → Type 0) (cs : List Component) → All P cs → OfComponents P (treatment_of cs)
of_treatment P [] all = tt
of_treatment P (c ∷ cs) all = (all, tt)

pub of_operation : (P : Component → Type 0) (s : Shape) (of first : ℕ) → OfComponents P (operation_of s of first)
of_operation P s of first = go s.controlled
  where
    go : (b : Bool) → OfComponents P (if b then performs of first ∷ [] else [])
    go true = tt
    go false = tt

pub of_opened : (P : Component → Type 0) (shapes : List Shape) (d : Direction) (of first : ℕ) → All P (components_of shapes of first) → OfComponents P (opened shapes d of first)
of_opened P shapes PartsFirst of first all =
    of_append P (treatment_of (components_of shapes of first)) (operation_of (shape_of shapes of) of first)
    (of_treatment P (components_of shapes of first) all) (of_operation P (shape_of shapes of) of first)
of_opened P shapes WholeFirst of first all =
    of_append P (operation_of (shape_of shapes of) of first) (treatment_of (components_of shapes of first))
    (of_operation P (shape_of shapes of) of first) (of_treatment P (components_of shapes of first) all)

all_remove : (P : Component → Type 0) (cs : List Component) (i : ℕ) → All P cs → All P (remove cs i)
all_remove P [] zero all = all_none P
all_remove P [] (suc i) all = all_none P
all_remove P (c ∷ cs) zero all = all_tail P c cs all
all_remove P (c ∷ cs) (suc i) all = all_cons P c (remove cs i) (all_head P c cs all) (all_remove P cs i (all_tail P c cs all))

pub of_without : (P : Component → Type 0) (left : List Task) (i : ℕ) → OfComponents P left → OfComponents P (without left i)
of_without P [] i all = tt
of_without P (performs of part ∷ behind) i all = all
of_without P (treats cs ∷ behind) i all =
    of_append P (treatment_of (remove cs i)) behind (of_treatment P (remove cs i) (all_remove P cs i all.0)) all.1

abbrev ForOne : (Component → Type 0) → Option Component → Type 0
ForOne P None = Unit {0}
ForOne P (Some c) = P c

get_all : (P : Component → Type 0) (cs : List Component) (i : ℕ) (c : Component) → All P cs → slice_get cs i ≡ Some c → P c
get_all P [] i c all e = absurd (cc e)
get_all P (d ∷ cs) zero c all e = subst (λ (x : Option Component). ForOne P x) e (all_head P d cs all)
get_all P (d ∷ cs) (suc i) c all e = get_all P cs i c (all_tail P d cs all) e

pub of_open : (P : Component → Type 0) (left : List Task) (i : ℕ) (c : Component) → OfComponents P left → open_at left i ≡ Some c → P c
of_open P [] i c all e = absurd (cc e)
of_open P (performs of part ∷ behind) i c all e = absurd (cc e)
of_open P (treats cs ∷ behind) i c all e = get_all P cs i c all.0 e
