-- What a treatment keeps: each part that it is of is called already, or is left, and not both; and the order of what is left.

use Rattle.std.proofs.Common.{◌≡◌, ◌≢◌, ◌⊎◌, ℕ, zero, suc, ◌+◌, ◌<◌, ◌≤◌, Bool, true, false, ◌==◌, if◌then◌else◌, List, [], ◌∷◌, ◌++◌, length, refl, sym, ap, ◌∙◌, inl, inr, subst, arith}
use Rattle.std.specs.Prelude.{Option, Some, None, map}
use Rattle.std.specs.List.{Contains, flat_map, range_with_len, slice_get}
use Rattle.std.proofs.lemmas.List.{append-nil}
use Rattle.std.proofs.lemmas.List.Elements.{Contains-append_left, Contains-append_right, Contains-append_cases}
use Rattle.std.proofs.lemmas.List.Sorted.{IsPermutation-sym, Contains-permutation}
use Rattle.std.proofs.lemmas.Bool.{cases_lt}
use Rattle.std.proofs.lemmas.Bool.Decides.{eqb_tells}
use Rattle.std.proofs.lemmas.List.FromFn.{length-range_with_len, get_or-range_with_len}
use Rattle.ada_program.specs.declared.program.TypeDefinition.{TypeDefinition}
use Rattle.ada_program.specs.Controlled.{number_of, number_reached, shapes_of}
use Rattle.ada_parts.specs.declared.tasks.Component.{Component}
use Rattle.ada_parts.specs.declared.tasks.Direction.{Direction}
use Rattle.ada_parts.specs.declared.tasks.Direction.TheVariants.{PartsFirst, WholeFirst}
use Rattle.ada_parts.specs.Shape.{Shape, IsTable, shape_of, parts_of, own_parts}
use Rattle.ada_parts.specs.Part.{Part, in_order, own_part, parts_at, numbers, LiesIn}
use Rattle.ada_parts.specs.Task.{Task, performs, opened, taken, IsOpen, OfComponents}
use Rattle.ada_parts.specs.Law.{parts_left}
use Rattle.ada_parts.proofs.Facts.{eq_self, eq_not}
use Rattle.ada_parts.proofs.Tables.{shape_older}
use Rattle.ada_parts.proofs.Numbers.{numbered}
use Rattle.ada_parts.proofs.Runs.{Known, known_closed, known_opened, kept_picked, left_opened, left_taken}
use Rattle.ada_parts.proofs.Orders.{Inner, Outer, inner_opened, inner_taken, outer_opened, outer_taken}
use Rattle.ada_meaning.specs.Step.{all_tasks, parts_for, record_tasks, tasks_for, tasks_in}
use Rattle.ada_meaning.proofs.Treatments.{are_table}
use Rattle.ada_finalized.proofs.Counts.{one_if, count, count_permutation, count_has, count_once}

-- All parts of a record in an object, where its first part has this number.
abbrev pub parts_from : List Shape → Option ℕ → (first : ℕ) → List Part
parts_from shapes None first = []
parts_from shapes (Some t) first = parts_at shapes t first

-- All parts of an object of a record type.
abbrev pub parts_in_all : List Shape → Option ℕ → List Part
parts_in_all shapes number = parts_from shapes number 0

-- Where a call is due, what lies in its part is called or left, by the direction.
abbrev pub Ordered : List Shape → Direction → (called : List Part) → List Task → Type 0
Ordered shapes PartsFirst called tasks = Inner shapes called tasks
Ordered shapes WholeFirst called tasks = Outer shapes tasks

-- With each part, the parts of its record are among these.
abbrev pub Closed : List Shape → List Part → Type 0
Closed shapes all = (b p : Part) → Contains all b → Contains (parts_at shapes b.of b.number) p → Contains all p

pub record Treated (shapes : List Shape) (d : Direction) (all called : List Part) (tasks : List Task) : Type 0 where
  pub known : OfComponents (Known shapes) tasks
  pub each : (n : ℕ) → count n called + count n (parts_left shapes tasks) ≡ count n all
  pub once : (n : ℕ) → count n all ≤ 1
  pub ordered : Ordered shapes d called tasks
  pub closed : Closed shapes all
  pub called_of : (p : Part) → Contains called p → Contains all p
  pub left_of : (p : Part) → Contains (parts_left shapes tasks) p → Contains all p

-- Membership.
pub none_in : {X : Type 0} {P : Type 0} (x : X) → Contains [] x → P
none_in x (k, lt, is) = absurd (omega (arith, lt))

head_in : {X : Type 0} (x : X) (xs : List X) → Contains (x ∷ xs) x
head_in x xs = (0, omega arith, refl)

tail_in : {X : Type 0} (x y : X) (xs : List X) → Contains xs y → Contains (x ∷ xs) y
tail_in x y xs (k, lt, is) = (suc k, omega (arith, lt), is)

pub cons_cases : {X : Type 0} (x y : X) (xs : List X) → Contains (x ∷ xs) y → (x ≡ y) ⊎ Contains xs y
cons_cases x y xs (zero, lt, is) = inl is
cons_cases x y xs (suc k, lt, is) = inr (k, omega (arith, lt), is)

-- A member of one of some lists.
record InOne {X Y : Type 0} (f : X → List Y) (xs : List X) (y : Y) : Type 0 where
  one : X
  is_in : Contains xs one
  has : Contains (f one) y

flat_cases : {X Y : Type 0} (f : X → List Y) (xs : List X) (y : Y) → Contains (flat_map f xs) y → InOne f xs y
flat_cases f [] y has = none_in y has
flat_cases f (x ∷ xs) y has =
    elim (Contains-append_cases (f x) (flat_map f xs) y has) [
      | inl here ↦ record { one = x; is_in = head_in x xs; has = here }
      | inr later ↦ let more = flat_cases f xs y later in record { one = more.one; is_in = tail_in x more.one xs more.is_in; has = more.has }
    ]

flat_in : {X Y : Type 0} (f : X → List Y) (xs : List X) (x : X) (y : Y) → Contains xs x → Contains (f x) y → Contains (flat_map f xs) y
flat_in f [] x y is_in has = none_in x is_in
flat_in f (z ∷ xs) x y is_in has =
    elim (cons_cases z x xs is_in) [
      | inl here ↦ Contains-append_left (f z) (flat_map f xs) y (subst (λ u. Contains (f u) y) (sym here) has)
      | inr later ↦ Contains-append_right (f z) (flat_map f xs) y (flat_in f xs x y later has)
    ]

-- The parts of the components of a record whose shape this is.
abbrev within_parts : List Shape → Shape → (first : ℕ) → List Part
within_parts older s first = flat_map (λ (c : Component). parts_at older c.of c.first) (in_order (parts_of older) s.components (first + own_parts s))

parts_newest : (s : Shape) (older : List Shape) (t first : ℕ) → t ≡ length older → parts_at (s ∷ older) t first ≡ own_part s t first ++ within_parts older s first
parts_newest s older t first e =
    ap (λ (b : Bool). if b then own_part s t first ++ within_parts older s first else parts_at older t first) (ap (λ (n : ℕ). n == length older) e ∙ eq_self (length older))

parts_older : (s : Shape) (older : List Shape) (t first : ℕ) → t ≢ length older → parts_at (s ∷ older) t first ≡ parts_at older t first
parts_older s older t first ne =
    ap (λ (b : Bool). if b then own_part s t first ++ within_parts older s first else parts_at older t first) (eq_not t (length older) ne)

own_is : (s : Shape) (t first : ℕ) (b : Part) → Contains (own_part s t first) b → record { of = t; number = first } ≡ b
own_is s t first b has = go s.controlled has
  where
    go : (controlled : Bool) → Contains (if controlled then record { of = t; number = first } ∷ [] else []) b → record { of = t; number = first } ≡ b
    go true has = elim (cons_cases (record { of = t; number = first }) b [] has) [ inl e ↦ e | inr more ↦ none_in b more ]
    go false has = none_in b has

-- A part of a record is of a type of the table.
part_known : (shapes : List Shape) (t first : ℕ) (b : Part) → Contains (parts_at shapes t first) b → b.of < length shapes
part_known [] t first b has = none_in b has
part_known (s ∷ older) t first b has =
    elim (eqb_tells t (length older)) [
      | inl h ↦ newest h.1 (λ u q. part_known older u q b)
      | inr h ↦ let less = part_known older t first b (subst (λ (ps : List Part). Contains ps b) (parts_older s older t first h.1) has) in omega (arith, less)
    ]
  where
    newest : t ≡ length older → ((u q : ℕ) → Contains (parts_at older u q) b → b.of < length older) → b.of < length (s ∷ older)
    newest e again =
        elim (Contains-append_cases (own_part s t first) (within_parts older s first) b (subst (λ (ps : List Part). Contains ps b) (parts_newest s older t first e) has)) [
          | inl own ↦ let same = ap (λ (p : Part). p.of) (own_is s t first b own) in omega (arith, same, e)
          | inr inner ↦
              let c = flat_cases (λ (c : Component). parts_at older c.of c.first) (in_order (parts_of older) s.components (first + own_parts s)) b inner in
              let less = again c.one.of c.one.first c.has in
              omega (arith, less)
        ]

-- The parts of a record are closed.
parts_closed : (shapes : List Shape) (t first : ℕ) → Closed shapes (parts_at shapes t first)
parts_closed [] t first b p has inner = none_in b has
parts_closed (s ∷ older) t first b p has inner =
    elim (eqb_tells t (length older)) [
      | inl h ↦ newest h.1 (λ u q has' inner'. parts_closed older u q b p has' inner')
      | inr h ↦
          let has' = subst (λ (ps : List Part). Contains ps b) (parts_older s older t first h.1) has in
          subst (λ (ps : List Part). Contains ps p) (sym (parts_older s older t first h.1)) (parts_closed older t first b p has' (below (part_known older t first b has')))
    ]
  where
    below : b.of < length older → Contains (parts_at older b.of b.number) p
    below less = subst (λ (ps : List Part). Contains ps p) (parts_older s older b.of b.number (λ e. omega (arith, e, less))) inner

    newest :
        t ≡ length older
        → ((u q : ℕ) → Contains (parts_at older u q) b → Contains (parts_at older b.of b.number) p → Contains (parts_at older u q) p)
        → Contains (parts_at (s ∷ older) t first) p
    newest e again =
        elim (Contains-append_cases (own_part s t first) (within_parts older s first) b (subst (λ (ps : List Part). Contains ps b) (parts_newest s older t first e) has)) [
          | inl own ↦ subst (λ (w : Part). Contains (parts_at (s ∷ older) w.of w.number) p) (sym (own_is s t first b own)) inner
          | inr inside ↦
              let cs = in_order (parts_of older) s.components (first + own_parts s) in
              let c = flat_cases (λ (c : Component). parts_at older c.of c.first) cs b inside in
              let there = again c.one.of c.one.first c.has (below (part_known older c.one.of c.one.first b c.has)) in
              subst (λ (ps : List Part). Contains ps p) (sym (parts_newest s older t first e))
              (Contains-append_right (own_part s t first) (within_parts older s first) p (flat_in (λ (c : Component). parts_at older c.of c.first) cs c.one p c.is_in there))
        ]

ordered_first : (shapes : List Shape) (d : Direction) (t first : ℕ) → IsTable shapes → t < length shapes → Ordered shapes d [] (opened shapes d t first)
ordered_first shapes PartsFirst t first table lt = inner_opened shapes [] t first table lt
ordered_first shapes WholeFirst t first table lt =
    subst (Outer shapes) (append-nil (opened shapes WholeFirst t first)) (outer_opened shapes t first [] table lt tt)

treated_first : (shapes : List Shape) (d : Direction) (t first : ℕ) → IsTable shapes → t < length shapes → Treated shapes d (parts_at shapes t first) [] (opened shapes d t first)
treated_first shapes d t first table lt = record {
  known = known_opened shapes d t first table lt;
  each = λ n. let e = count_permutation n (parts_at shapes t first) (parts_left shapes (opened shapes d t first)) (left_opened shapes d t first table lt) in omega (arith, e);
  once = λ n. count_once n (parts_at shapes t first) first (parts_of shapes t) (numbered shapes t first);
  ordered = ordered_first shapes d t first table lt;
  closed = parts_closed shapes t first;
  called_of = λ p has. none_in p has;
  left_of = λ p has. Contains-permutation (parts_left shapes (opened shapes d t first)) (parts_at shapes t first) p (IsPermutation-sym (parts_at shapes t first) (parts_left shapes (opened shapes d t first)) (left_opened shapes d t first table lt)) has;
}

-- Nothing is to be done for a type that is not in the table, and it has no parts.
shape_unknown : (shapes : List Shape) (t : ℕ) → length shapes ≤ t → shape_of shapes t ≡ record { controlled = false; components = [] }
shape_unknown [] t le = refl
shape_unknown (s ∷ older) t le = shape_older s older t (λ e. absurd (omega (arith, le, e))) ∙ shape_unknown older t (omega (arith, le))

parts_unknown : (shapes : List Shape) (t p : ℕ) → length shapes ≤ t → parts_at shapes t p ≡ []
parts_unknown [] t p le = refl
parts_unknown (s ∷ older) t p le = rw (eq_not t (length older) (λ e. absurd (omega (arith, le, e)))) (parts_unknown older t p (omega (arith, le)))

-- Nothing at all is treated.
nothing_treated : (shapes : List Shape) (d : Direction) → Treated shapes d [] [] []
nothing_treated shapes PartsFirst = record { known = tt; each = λ n. refl; once = λ n. omega arith; ordered = tt; closed = λ b p has inner. none_in b has; called_of = λ p has. has; left_of = λ p has. has }
nothing_treated shapes WholeFirst = record { known = tt; each = λ n. refl; once = λ n. omega arith; ordered = tt; closed = λ b p has inner. none_in b has; called_of = λ p has. has; left_of = λ p has. has }

-- A treatment begins with no call, of whatever type the object is.
unknown_first : (shapes : List Shape) (d : Direction) (t first : ℕ) → length shapes ≤ t → Treated shapes d (parts_at shapes t first) [] (opened shapes d t first)
unknown_first shapes d t first le =
    subst (λ (all : List Part). Treated shapes d all [] (opened shapes d t first)) (sym (parts_unknown shapes t first le)) (by d)
  where
    is : shape_of shapes t ≡ record { controlled = false; components = [] }
    is = shape_unknown shapes t le

    by : (d : Direction) → Treated shapes d [] [] (opened shapes d t first)
    by PartsFirst = rw is (nothing_treated shapes PartsFirst)
    by WholeFirst = rw is (nothing_treated shapes WholeFirst)

some_first : (shapes : List Shape) (d : Direction) (t first : ℕ) → IsTable shapes → Treated shapes d (parts_at shapes t first) [] (opened shapes d t first)
some_first shapes d t first table = elim (cases_lt t (length shapes)) [ inl h ↦ treated_first shapes d t first table h | inr h ↦ unknown_first shapes d t first h ]

any_first : (shapes : List Shape) (d : Direction) (t : Option ℕ) → IsTable shapes → Treated shapes d (parts_in_all shapes t) [] (tasks_for shapes d t)
any_first shapes d None table = nothing_treated shapes d
any_first shapes d (Some t) table = some_first shapes d t 0 table

any_in : (shapes : List Shape) (d : Direction) (t : Option ℕ) (first : ℕ) → IsTable shapes → Treated shapes d (parts_from shapes t first) [] (tasks_in shapes d t first)
any_in shapes d None first table = nothing_treated shapes d
any_in shapes d (Some t) first table = some_first shapes d t first table

pub first : (types : List TypeDefinition) (d : Direction) (access : ℕ) → Treated (shapes_of types) d (parts_in_all (shapes_of types) (number_reached types access)) [] (all_tasks types access d)
first types d access = any_first (shapes_of types) d (number_reached types access) (are_table types)

-- All parts of a record of a type that lies in an object, and its treatment.
abbrev pub record_parts : List TypeDefinition → (record_type first : ℕ) → List Part
record_parts types t first = parts_from (shapes_of types) (number_of types (Some t)) first

pub record_first : (types : List TypeDefinition) (d : Direction) (t first : ℕ) → Treated (shapes_of types) d (record_parts types t first) [] (record_tasks types t d first)
record_first types d t first = any_in (shapes_of types) d (number_of types (Some t)) first (are_table types)

-- A part is counted among those of its object.
in_range : (n m : ℕ) → n < m → Contains (range_with_len 0 m) n
in_range n m lt =
    let l = length-range_with_len 0 m in
    (n, omega (arith, l, lt), get_or-range_with_len 0 m n n lt ∙ omega arith)

pub part_counts : (shapes : List Shape) (t : Option ℕ) (n : ℕ) → n < parts_for shapes t → 1 ≤ count n (parts_in_all shapes t)
part_counts shapes None n lt = absurd (omega (arith, lt))
part_counts shapes (Some t) n lt =
    count_has n (parts_at shapes t 0) (subst (λ (ns : List ℕ). Contains ns n) (sym (numbered shapes t 0)) (in_range n (parts_of shapes t) lt))

-- What is there is within the length.
pub get_within : {X : Type 0} (xs : List X) (n : ℕ) (x : X) → slice_get xs n ≡ Some x → n < length xs
get_within [] n x is = absurd (cc is)
get_within (y ∷ xs) zero x is = omega arith
get_within (y ∷ xs) (suc n) x is = let lt = get_within xs n x is in omega (arith, lt)

-- A pick changes the order of what is left alone.
pub picked : (shapes : List Shape) (d : Direction) (all called : List Part) (tasks : List Task) (i : ℕ) → IsTable shapes → IsOpen tasks i → Treated shapes d all called tasks → Treated shapes d all called (taken shapes d tasks i)
picked shapes d all called tasks i table opens t = record {
  known = kept_picked shapes d (Known shapes) (known_closed shapes table) tasks i opens t.known;
  each = λ n. let e = count_permutation n (parts_left shapes tasks) (parts_left shapes (taken shapes d tasks i)) (left_taken shapes d tasks i table opens t.known) in let f = t.each n in omega (arith, e, f);
  once = t.once;
  ordered = go d t.ordered;
  closed = t.closed;
  called_of = t.called_of;
  left_of = λ p has. t.left_of p (Contains-permutation (parts_left shapes (taken shapes d tasks i)) (parts_left shapes tasks) p (IsPermutation-sym (parts_left shapes tasks) (parts_left shapes (taken shapes d tasks i)) (left_taken shapes d tasks i table opens t.known)) has);
}
  where
    go : (d : Direction) → Ordered shapes d called tasks → Ordered shapes d called (taken shapes d tasks i)
    go PartsFirst o = inner_taken shapes called tasks i table opens t.known o
    go WholeFirst o = outer_taken shapes tasks i table opens t.known o

-- What is left is of the same parts then.
pub picked_left :
    (shapes : List Shape) (d : Direction) (all called : List Part) (tasks : List Task) (i : ℕ) → IsTable shapes → IsOpen tasks i
    → Treated shapes d all called tasks → (n : ℕ) → count n (parts_left shapes (taken shapes d tasks i)) ≡ count n (parts_left shapes tasks)
picked_left shapes d all called tasks i table opens t n =
    count_permutation n (parts_left shapes tasks) (parts_left shapes (taken shapes d tasks i)) (left_taken shapes d tasks i table opens t.known)

-- A call.
module _ (shapes : List Shape) (d : Direction) (all called : List Part) (p : Part) (behind : List Task) where
  pub performed : Treated shapes d all called (performs p.of p.number ∷ behind) → Treated shapes d all (p ∷ called) behind
  performed t = record {
    known = t.known;
    each = λ n. let e = t.each n in omega (arith, e);
    once = t.once;
    ordered = go d t.ordered;
    closed = t.closed;
    called_of = λ q has. elim (cons_cases p q called has) [ inl e ↦ t.left_of q (subst (λ (x : Part). Contains (p ∷ parts_left shapes behind) x) e (head_in p (parts_left shapes behind))) | inr more ↦ t.called_of q more ];
    left_of = λ q has. t.left_of q (tail_in p q (parts_left shapes behind) has);
  }
    where
      go : (d : Direction) → Ordered shapes d called (performs p.of p.number ∷ behind) → Ordered shapes d (p ∷ called) behind
      go PartsFirst o = o.1
      go WholeFirst o = o.1

  -- Its part has not been called yet, is not left behind it, and is one of these.
  pub not_yet : Treated shapes d all called (performs p.of p.number ∷ behind) → (count p.number called ≡ 0) × (count p.number all ≡ 1) × (count p.number (parts_left shapes behind) ≡ 0)
  not_yet t =
      let one = ap one_if (eq_self p.number) in
      let e = t.each p.number in
      let o = t.once p.number in
      (omega (arith, one, e, o), omega (arith, one, e, o), omega (arith, one, e, o))

  pub is_one : Treated shapes d all called (performs p.of p.number ∷ behind) → Contains all p
  is_one t = t.left_of p (head_in p (parts_left shapes behind))

-- What lies in its part has been called, in an initialization or an adjustment; and in a finalization it is left.
pub inside_called : (shapes : List Shape) (all called : List Part) (of n : ℕ) (behind : List Task) → Treated shapes PartsFirst all called (performs of n ∷ behind) → (m : ℕ) → LiesIn shapes m (record { of = of; number = n }) → 1 ≤ count m called
inside_called shapes all called of n behind t m lies = count_has m called (t.ordered.0 m lies)

-- So it is not left.
pub inside_gone : (shapes : List Shape) (all called : List Part) (of n : ℕ) (behind : List Task) → Treated shapes PartsFirst all called (performs of n ∷ behind) → (m : ℕ) → LiesIn shapes m (record { of = of; number = n }) → count m (parts_left shapes behind) ≡ 0
inside_gone shapes all called of n behind t m lies =
    let has = inside_called shapes all called of n behind t m lies in
    let e = t.each m in
    let o = t.once m in
    omega (arith, has, e, o)

pub inside_left : (shapes : List Shape) (all called : List Part) (of n : ℕ) (behind : List Task) → Treated shapes WholeFirst all called (performs of n ∷ behind) → (m : ℕ) → LiesIn shapes m (record { of = of; number = n }) → 1 ≤ count m (parts_left shapes behind)
inside_left shapes all called of n behind t m lies = count_has m (parts_left shapes behind) (t.ordered.0 m lies)

-- What is counted is there.
counted_in : (n : ℕ) (ps : List Part) → 1 ≤ count n ps → (p : Part) × (Contains ps p × (p.number ≡ n))
counted_in n [] some = absurd (omega (arith, some))
counted_in n (p ∷ ps) some = elim (eqb_tells p.number n) [ inl h ↦ (p, (head_in p ps, h.1)) | inr h ↦ later h.0 (counted_in n ps) ]
  where
    later : (p.number == n) ≡ false → (1 ≤ count n ps → (q : Part) × (Contains ps q × (q.number ≡ n))) → (q : Part) × (Contains (p ∷ ps) q × (q.number ≡ n))
    later is again =
        let none = ap one_if is in
        let q = again (omega (arith, none, some)) in
        (q.0, (tail_in p q.0 ps q.1.0, q.1.1))

is_counted : (p : Part) (ps : List Part) → Contains ps p → 1 ≤ count p.number ps
is_counted p [] has = none_in p has
is_counted p (q ∷ ps) has =
    elim (cons_cases q p ps has) [
      | inl e ↦ let one : one_if (q.number == p.number) ≡ 1 = ap (λ (x : Part). one_if (x.number == p.number)) e ∙ ap one_if (eq_self p.number) in omega (arith, one)
      | inr more ↦ let some = is_counted p ps more in omega (arith, some)
    ]

-- A part that is counted once is the one of its number.
not_again : (r p q : Part) (ps : List Part) → count p.number (r ∷ ps) ≤ 1 → r ≡ p → Contains ps q → p.number ≡ q.number → ⊥
not_again r p q ps once e has same =
    let one : one_if (r.number == p.number) ≡ 1 = ap (λ (x : Part). one_if (x.number == p.number)) e ∙ ap one_if (eq_self p.number) in
    let some = subst (λ (n : ℕ). 1 ≤ count n ps) (sym same) (is_counted q ps has) in
    omega (arith, one, some, once)

only_one : (ps : List Part) (p q : Part) → count p.number ps ≤ 1 → Contains ps p → Contains ps q → p.number ≡ q.number → p ≡ q
only_one [] p q once has has' same = none_in p has
only_one (r ∷ ps) p q once has has' same =
    elim (cons_cases r p ps has) [
      | inl e ↦ elim (cons_cases r q ps has') [ inl f ↦ sym e ∙ f | inr more ↦ absurd (not_again r p q ps once e more same) ]
      | inr more ↦
          elim (cons_cases r q ps has') [
            | inl f ↦ absurd (not_again r q p ps (subst (λ (n : ℕ). count n (r ∷ ps) ≤ 1) same once) f more (sym same))
            | inr more' ↦ only_one ps p q (omega (arith, once)) more more' same
          ]
    ]

-- All parts that lie in the part of a call, in an initialization or an adjustment, have been called.
pub all_inside_called :
    (shapes : List Shape) (all called : List Part) (of n : ℕ) (behind : List Task) → Treated shapes PartsFirst all called (performs of n ∷ behind)
    → (p : Part) → LiesIn shapes p.number (record { of = of; number = n }) → Contains (parts_at shapes of n) p → Contains called p
all_inside_called shapes all called of n behind t p lies inner =
    let b : Part = record { of = of; number = n } in
    let q = counted_in p.number called (inside_called shapes all called of n behind t p.number lies) in
    let mine = t.closed b p (is_one shapes PartsFirst all called b behind t) inner in
    let same = only_one all p q.0 (t.once p.number) mine (t.called_of q.0 q.1.0) (sym q.1.1) in
    subst (Contains called) (sym same) q.1.0

-- What a finalization keeps: each part is left once, and where it is finalized, what lies in it is left behind.
pub record Clearing (shapes : List Shape) (tasks : List Task) : Type 0 where
  pub known : OfComponents (Known shapes) tasks
  pub once : (n : ℕ) → count n (parts_left shapes tasks) ≤ 1
  pub outer : Outer shapes tasks

pub clearing_first : (shapes : List Shape) (all : List Part) (tasks : List Task) → Treated shapes WholeFirst all [] tasks → Clearing shapes tasks
clearing_first shapes all tasks t =
    record { known = t.known; once = λ n. (let e = t.each n in let o = t.once n in omega (arith, e, o)); outer = t.ordered }

pub clearing_left :
    (shapes : List Shape) (tasks : List Task) (i : ℕ) → IsTable shapes → IsOpen tasks i → Clearing shapes tasks → (n : ℕ)
    → count n (parts_left shapes (taken shapes WholeFirst tasks i)) ≡ count n (parts_left shapes tasks)
clearing_left shapes tasks i table opens c n =
    count_permutation n (parts_left shapes tasks) (parts_left shapes (taken shapes WholeFirst tasks i)) (left_taken shapes WholeFirst tasks i table opens c.known)

pub clearing_picked :
    (shapes : List Shape) (tasks : List Task) (i : ℕ) → IsTable shapes → IsOpen tasks i → Clearing shapes tasks → Clearing shapes (taken shapes WholeFirst tasks i)
clearing_picked shapes tasks i table opens c = record {
  known = kept_picked shapes WholeFirst (Known shapes) (known_closed shapes table) tasks i opens c.known;
  once = λ n. (let e = clearing_left shapes tasks i table opens c n in let o = c.once n in omega (arith, e, o));
  outer = outer_taken shapes tasks i table opens c.known c.outer;
}

pub clearing_performed : (shapes : List Shape) (of n : ℕ) (behind : List Task) → Clearing shapes (performs of n ∷ behind) → Clearing shapes behind
clearing_performed shapes of n behind c =
    record { known = c.known; once = λ m. (let o = c.once m in omega (arith, o)); outer = c.outer.1 }

pub clearing_inside :
    (shapes : List Shape) (of n : ℕ) (behind : List Task) → Clearing shapes (performs of n ∷ behind) → (m : ℕ)
    → LiesIn shapes m (record { of = of; number = n }) → 1 ≤ count m (parts_left shapes behind)
clearing_inside shapes of n behind c m lies = count_has m (parts_left shapes behind) (c.outer.0 m lies)

-- The parts that have begun are finalized in the reverse order.
abbrev pub undoing : (done : List Part) → List Task
undoing done = map (λ p. performs p.of p.number) done

pub undoing_left : (shapes : List Shape) (done : List Part) → parts_left shapes (undoing done) ≡ done
undoing_left shapes [] = refl
undoing_left shapes (p ∷ done) = ap (λ (ps : List Part). p ∷ ps) (undoing_left shapes done)

undoing_known : (shapes : List Shape) (done : List Part) → OfComponents (Known shapes) (undoing done)
undoing_known shapes [] = tt
undoing_known shapes (p ∷ done) = undoing_known shapes done

pub undoing_cleared :
    (shapes : List Shape) (all done : List Part) (tasks : List Task) → Treated shapes PartsFirst all done tasks → Outer shapes (undoing done)
    → Clearing shapes (undoing done)
undoing_cleared shapes all done tasks t outer = record {
  known = undoing_known shapes done;
  once = λ n. (let l = ap (count n) (undoing_left shapes done) in let e = t.each n in let o = t.once n in omega (arith, l, e, o));
  outer = outer;
}

-- One more has begun: all that lies in it has.
pub undoing_more :
    (shapes : List Shape) (all done : List Part) (of n : ℕ) (behind : List Task) → Treated shapes PartsFirst all done (performs of n ∷ behind)
    → Outer shapes (undoing done) → Outer shapes (undoing (record { of = of; number = n } ∷ done))
undoing_more shapes all done of n behind t outer =
    ((λ m lies. subst (λ (ps : List Part). Contains (numbers ps) m) (sym (undoing_left shapes done)) (t.ordered.0 m lies)), outer)
