-- Record types that have controlled parts are numbered, each by a number of its own, and say how many parts they have; this stays so as types are
-- declared.

use Rattle.std.proofs.Common.{◌≡◌, ◌∙◌, ℕ, ◌+◌, ◌<◌, ◌≤◌, Bool, true, false, ◌&&◌, cond, List, [], ◌∷◌, ◌++◌, length, refl, sym, ap, subst, zero, suc, eqb, eqb-true, eq-eqb, arith}
use Rattle.std.specs.Prelude.{Option, Some, None, is_some, nat_lt, not, count_by}
use Rattle.std.specs.List.{list_all, slice_get, slice_set}
use Rattle.std.proofs.lemmas.Bool.{lt-ltb, ltb-true, ne_eqb}
use Rattle.std.proofs.lemmas.List.Sums.{sum_by-cons}
use Rattle.ada_program.specs.declared.program.Finalization.{Finalization}
use Rattle.ada_program.specs.declared.program.ComponentKind.{ComponentKind}
use Rattle.ada_program.specs.declared.program.PartKind.{PartKind}
use Rattle.ada_program.specs.declared.program.PartKind.TheVariants as part
use Rattle.ada_program.specs.Controlled.{no_operations, operations_in}
use Rattle.ada_program.specs.ProgramForm.{PartForm, TypeForm, record_of, access_to, object_of}
use Rattle.ada_program.specs.WellFormed as fits
use Rattle.ada_resolve.specs.Records.{Composition, counted, finalization_made}
use Rattle.ada_resolve.proofs.WellFormed.Forms.{AreIn, bare, bare_final, forms, same_at, same_final}
use Rattle.ada_resolve.proofs.WellFormed.Laid.{OfParts, RecordHas, record_has, IsLaid, AreRecordsLaid, Avoids, IsUnused}
use Rattle.ada_resolve.proofs.WellFormed.Tables.{both_parts, first_part, second_part, all_weaker, all_more, all_get, get_more, get_other, Keeps, is_plain, is_counted, type_both, plain_of, counted_of, counted_first, counted_says, counted_alone, plains_kept}

-- how much a test counts
abbrev one_if : Bool → ℕ
one_if b = cond b 1 0

-- counting: one more element, and another one in the place of one that does not count
module _ {X : Type 0} where
  count_next : (p : X → Bool) (x : X) (xs : List X) → count_by p (x ∷ xs) ≡ one_if (p x) + count_by p xs
  count_next p x xs = sum_by-cons (λ y. one_if (p y)) x xs

  count_more : (p : X → Bool) (xs : List X) (y : X) → count_by p (xs ++ y ∷ []) ≡ count_by p xs + one_if (p y)
  count_more p [] y = count_next p y [] ∙ omega arith
  count_more p (x ∷ xs) y =
      let all = count_next p x (xs ++ y ∷ []) in
      let own = count_next p x xs in
      let rest = count_more p xs y in
      omega (arith, all, own, rest)

  count_set : (p : X → Bool) (xs : List X) (i : ℕ) (x y : X) → slice_get xs i ≡ Some x → p x ≡ false → count_by p (slice_set xs i y) ≡ count_by p xs + one_if (p y)
  count_set p [] i x y is off = absurd (cc is)
  count_set p (z ∷ xs) zero x y is off =
      let same : x ≡ z = cc is in
      let out : p z ≡ false = subst (λ (w : X). p w ≡ false) same off in
      let none : one_if (p z) ≡ 0 = ap (λ (b : Bool). one_if b) out in
      let all = count_next p y xs in
      let own = count_next p z xs in
      omega (arith, all, own, none)
  count_set p (z ∷ xs) (suc i) x y is off =
      let all = count_next p z (slice_set xs i y) in
      let own = count_next p z xs in
      let rest = count_set p xs i x y is off in
      omega (arith, all, own, rest)

  pub count_most : (p : X → Bool) (xs : List X) → count_by p xs ≤ length xs
  count_most p [] = omega arith
  count_most p (x ∷ xs) =
      let all = count_next p x xs in
      let rest = count_most p xs in
      let one = at_most (p x) in
      omega (arith, all, rest, one)
    where
      at_most : (b : Bool) → one_if b ≤ 1
      at_most true = omega arith
      at_most false = omega arith

  count_none : (p q : X → Bool) → ((x : X) → q x ≡ true → p x ≡ false) → (xs : List X) → list_all q xs ≡ true → count_by p xs ≡ 0
  count_none p q w [] e = refl
  count_none p q w (x ∷ xs) e =
      let none : one_if (p x) ≡ 0 = ap (λ (b : Bool). one_if b) (w x (first_part (q x) (list_all q xs) e)) in
      let rest = count_none p q w xs (second_part (q x) (list_all q xs) e) in
      let all = count_next p x xs in
      omega (arith, all, none, rest)

-- how a type is finalized, if it has controlled parts
abbrev final_of : TypeForm → Option Finalization
final_of x = fits.finalization_in (Some x)

-- how many types have a number
abbrev having : ℕ → List TypeForm → ℕ
having n types = count_by (λ x. fits.has_number n (final_of x)) types

-- numbers that are given stay their types' own
abbrev pub NumbersStay : List TypeForm → List TypeForm → Type 0
NumbersStay types more =
    (fits.numbered_types types ≤ fits.numbered_types more) × ((n : ℕ) → n < fits.numbered_types types → having n more ≡ having n types)

alone_stays : (types more : List TypeForm) (final : Option Finalization) → NumbersStay types more → fits.is_numbered_alone types final ≡ true → fits.is_numbered_alone more final ≡ true
alone_stays types more None w e = refl
alone_stays types more (Some f) w e =
    let n = f.number.0 in
    let below = nat_lt n (fits.numbered_types types) in
    let alone = eqb (having n types) 1 in
    let less : n < fits.numbered_types types = ltb-true n (fits.numbered_types types) (first_part below alone e) in
    let one = eqb-true (having n types) 1 (second_part below alone e) in
    let same = w.1 n less in
    let long = w.0 in
    both_parts (nat_lt n (fits.numbered_types more)) (eqb (having n more) 1)
    (lt-ltb n (fits.numbered_types more) (omega (arith, less, long))) (eq-eqb (having n more) 1 (same ∙ one))

-- what is said of controlled parts looks at no operation
pub said_bare : (o : Option Finalization) → fits.count_said (bare_final o) ≡ fits.count_said o
said_bare None = refl
said_bare (Some f) = refl

below_bare : (n : ℕ) (o : Option Finalization) → fits.is_numbered_below n (bare_final o) ≡ fits.is_numbered_below n o
below_bare n None = refl
below_bare n (Some f) = refl

number_bare : (n : ℕ) (o : Option Finalization) → fits.has_number n (bare_final o) ≡ fits.has_number n o
number_bare n None = refl
number_bare n (Some f) = refl

some_bare : (o : Option Finalization) → is_some (bare_final o) ≡ is_some o
some_bare None = refl
some_bare (Some f) = refl

-- the objects of the record type of a number are finalized alike among these and among those, but for operations
abbrev pub IsFinalizedAlike : List TypeForm → List TypeForm → ℕ → Type 0
IsFinalizedAlike types more t = bare_final (fits.finalization_of more t) ≡ bare_final (fits.finalization_of types t)

-- the type of each component that is a record says the same of its controlled parts
abbrev pub IsAlike : List TypeForm → List TypeForm → TypeForm → Type 0
IsAlike types more (record_of name ps cs final) = OfParts (RecordHas (IsFinalizedAlike types more)) ps
IsAlike types more (access_to name d pool) = Unit {0}
IsAlike types more (object_of r) = Unit {0}

pub within_alike : (types more : List TypeForm) (kind : PartKind) → RecordHas (IsFinalizedAlike types more) kind → fits.parts_within more kind ≡ fits.parts_within types kind
within_alike types more (part.Elementary kind) h = refl
within_alike types more (part.Record t) h = same_final (λ o. fits.count_said o) said_bare (fits.finalization_of more t.0) (fits.finalization_of types t.0) h
within_alike types more part.Parent h = refl

earlier_alike : (types more : List TypeForm) (n : ℕ) (kind : PartKind) → RecordHas (IsFinalizedAlike types more) kind → fits.is_of_earlier more n kind ≡ fits.is_of_earlier types n kind
earlier_alike types more n (part.Elementary kind) h = refl
earlier_alike types more n (part.Record t) h = same_final (λ o. fits.is_numbered_below n o) (below_bare n) (fits.finalization_of more t.0) (fits.finalization_of types t.0) h
earlier_alike types more n part.Parent h = refl

pub order_alike : (types more : List TypeForm) (count from : ℕ) (ps : List PartForm) → OfParts (RecordHas (IsFinalizedAlike types more)) ps → fits.parts_in_order more count from ps ≡ fits.parts_in_order types count from ps
order_alike types more count from [] h = refl
order_alike types more count from (p ∷ ps) h =
    let own : fits.parts_within more p.kind ≡ fits.parts_within types p.kind = within_alike types more p.kind (h 0 p refl) in
    ap (λ (b : Bool). eqb p.part from && b)
    (ap (λ (n : ℕ). fits.parts_in_order more count (from + n) ps) own ∙ order_alike types more count (from + fits.parts_within types p.kind) ps (λ i. h (suc i)))

all_earlier : (types more : List TypeForm) (n : ℕ) (ps : List PartForm) → OfParts (RecordHas (IsFinalizedAlike types more)) ps → list_all (λ (p : PartForm). fits.is_of_earlier more n p.kind) ps ≡ list_all (λ (p : PartForm). fits.is_of_earlier types n p.kind) ps
all_earlier types more n [] h = refl
all_earlier types more n (p ∷ ps) h = rw (earlier_alike types more n p.kind (h 0 p refl), all_earlier types more n ps (λ i. h (suc i))) refl

pub says_alike : (types more : List TypeForm) (final : Option Finalization) (ps : List PartForm) → OfParts (RecordHas (IsFinalizedAlike types more)) ps → fits.says_parts more final ps ≡ fits.says_parts types final ps
says_alike types more None ps h = order_alike types more 0 0 ps h
says_alike types more (Some f) ps h = rw (order_alike types more f.parts 0 ps h, all_earlier types more f.number.0 ps h) refl

-- what is counted of a type stays so
counted_stays : (types more : List TypeForm) (x : TypeForm) → NumbersStay types more → IsAlike types more x → is_counted types x ≡ true → is_counted more x ≡ true
counted_stays types more (record_of name ps cs final) w a e =
    let first = fits.parent_first ps in
    let says : Bool = fits.says_parts more final ps in
    let alone : Bool = fits.is_numbered_alone more final in
    both_parts (first && says) alone
    (both_parts first says (counted_first types name ps cs final e) (says_alike types more final ps a ∙ counted_says types name ps cs final e))
    (alone_stays types more final w (counted_alone types name ps cs final e))
counted_stays types more (access_to name d pool) w a e = refl
counted_stays types more (object_of r) w a e = refl

all_counted : (types more xs : List TypeForm) → NumbersStay types more → ((i : ℕ) (x : TypeForm) → slice_get xs i ≡ Some x → IsAlike types more x) → list_all (is_counted types) xs ≡ true → list_all (is_counted more) xs ≡ true
all_counted types more [] w a e = refl
all_counted types more (x ∷ xs) w a e =
    both_parts (is_counted more x) (list_all (is_counted more) xs)
    (counted_stays types more x w (a 0 x refl) (first_part (is_counted types x) (list_all (is_counted types) xs) e))
    (all_counted types more xs w (λ i. a (suc i)) (second_part (is_counted types x) (list_all (is_counted types) xs) e))

-- types whose numbers stay, and whose components are alike
abbrev pub StayCounted : List TypeForm → List TypeForm → Type 0
StayCounted types more = NumbersStay types more × ((i : ℕ) (x : TypeForm) → slice_get types i ≡ Some x → IsAlike types more x)

-- both parts of what fits
fits_split : (types xs : List TypeForm) → list_all (fits.type_fits types) xs ≡ true → (list_all (is_plain types) xs ≡ true) × (list_all (is_counted types) xs ≡ true)
fits_split types xs e = (all_weaker (fits.type_fits types) (is_plain types) (plain_of types) xs e, all_weaker (fits.type_fits types) (is_counted types) (counted_of types) xs e)

fits_join : (types xs : List TypeForm) → list_all (is_plain types) xs ≡ true → list_all (is_counted types) xs ≡ true → list_all (fits.type_fits types) xs ≡ true
fits_join types [] e f = refl
fits_join types (x ∷ xs) e f =
    both_parts (fits.type_fits types x) (list_all (fits.type_fits types) xs)
    (type_both types x (first_part (is_plain types x) (list_all (is_plain types) xs) e) (first_part (is_counted types x) (list_all (is_counted types) xs) f))
    (fits_join types xs (second_part (is_plain types x) (list_all (is_plain types) xs) e) (second_part (is_counted types x) (list_all (is_counted types) xs) f))

pub plains : (types : List TypeForm) → list_all (fits.type_fits types) types ≡ true → list_all (is_plain types) types ≡ true
plains types all = (fits_split types types all).0

-- types that are all plain among more of them, and stay counted, fit
pub types_stay : (types more : List TypeForm) → StayCounted types more → list_all (fits.type_fits types) types ≡ true → list_all (is_plain more) types ≡ true → list_all (fits.type_fits more) types ≡ true
types_stay types more w all plain =
    fits_join more types plain (all_counted types more types w.0 w.1 (fits_split types types all).1)

pub types_kept : (types more : List TypeForm) → Keeps types more → ((t : ℕ) → fits.is_record types t ≡ true → fits.is_record more t ≡ true) → StayCounted types more → list_all (fits.type_fits types) types ≡ true → list_all (fits.type_fits more) types ≡ true
types_kept types more a r w all = types_stay types more w all (plains_kept types more a r types (plains types all))

-- one more type that is finalized like this
pub record OneMore (types more : List TypeForm) (final : Option Finalization) : Type 0 where
  pub numbered : fits.numbered_types more ≡ fits.numbered_types types + one_if (is_some final)
  pub having_it : (n : ℕ) → having n more ≡ having n types + one_if (fits.has_number n final)

pub one_behind : (types : List TypeForm) (form : TypeForm) → OneMore types (types ++ form ∷ []) (final_of form)
one_behind types form = record {
  numbered = count_more (λ x. is_some (final_of x)) types form;
  having_it = λ n. count_more (λ x. fits.has_number n (final_of x)) types form;
}

pub one_replaced : (types : List TypeForm) (i : ℕ) (x form : TypeForm) → slice_get types i ≡ Some x → final_of x ≡ None → OneMore types (slice_set types i form) (final_of form)
one_replaced types i x form is none = record {
  numbered = count_set (λ y. is_some (final_of y)) types i x form is (ap (λ (o : Option Finalization). is_some o) none);
  having_it = λ n. count_set (λ y. fits.has_number n (final_of y)) types i x form is (ap (λ (o : Option Finalization). fits.has_number n o) none);
}

-- it has the next number, if it has one
abbrev pub IsNext : ℕ → Option Finalization → Type 0
IsNext n None = Unit {0}
IsNext n (Some f) = f.number.0 ≡ n

pub numbers_stay : (types more : List TypeForm) (final : Option Finalization) → OneMore types more final → IsNext (fits.numbered_types types) final → NumbersStay types more
numbers_stay types more None one next =
    (let all = one.numbered in omega (arith, all), λ n less. let all = one.having_it n in omega (arith, all))
numbers_stay types more (Some f) one next = (
  let all = one.numbered in omega (arith, all),
  λ n less.
      let all = one.having_it n in
      let other : eqb f.number.0 n ≡ false = ne_eqb f.number.0 n (omega (arith, next, less)) in
      let none : one_if (eqb f.number.0 n) ≡ 0 = ap (λ (b : Bool). one_if b) other in
      omega (arith, all, none),
)

-- a number that is not given yet is that of no type
below_next : (types : List TypeForm) (x : TypeForm) → is_counted types x ≡ true → fits.has_number (fits.numbered_types types) (final_of x) ≡ false
below_next types (record_of name ps cs None) e = refl
below_next types (record_of name ps cs (Some f)) e =
    let n = f.number.0 in
    let all = fits.numbered_types types in
    let alone = counted_alone types name ps cs (Some f) e in
    let less = ltb-true n all (first_part (nat_lt n all) (eqb (having n types) 1) alone) in
    ne_eqb n all (omega (arith, less))
below_next types (access_to name d pool) e = refl
below_next types (object_of r) e = refl

not_given : (types : List TypeForm) → list_all (fits.type_fits types) types ≡ true → having (fits.numbered_types types) types ≡ 0
not_given types all =
    count_none (λ x. fits.has_number (fits.numbered_types types) (final_of x)) (is_counted types) (below_next types) types (fits_split types types all).1

-- the next number is its type's own
pub next_alone : (types more : List TypeForm) (final : Option Finalization) → list_all (fits.type_fits types) types ≡ true → OneMore types more final → IsNext (fits.numbered_types types) final → fits.is_numbered_alone more final ≡ true
next_alone types more None all one next = refl
next_alone types more (Some f) all one next =
    let n = f.number.0 in
    let long = one.numbered in
    let own : one_if (eqb n n) ≡ 1 = ap (λ (b : Bool). one_if b) (eq-eqb n n refl) in
    let here = one.having_it n in
    let before : having n types ≡ 0 = ap (λ (m : ℕ). having m types) next ∙ not_given types all in
    both_parts (nat_lt n (fits.numbered_types more)) (eqb (having n more) 1)
    (lt-ltb n (fits.numbered_types more) (omega (arith, long, next))) (eq-eqb (having n more) 1 (omega (arith, own, here, before)))

-- what is counted of a type
pub counted_there : (types : List TypeForm) (t : ℕ) (x : TypeForm) → list_all (fits.type_fits types) types ≡ true → slice_get types t ≡ Some x → is_counted types x ≡ true
counted_there types t x all is = all_get (is_counted types) types t x (fits_split types types all).1 is

-- the number of a type with controlled parts is below the next one
pub earlier_there : (types : List TypeForm) (t : ℕ) → list_all (fits.type_fits types) types ≡ true → fits.is_numbered_below (fits.numbered_types types) (fits.finalization_of types t) ≡ true
earlier_there types t all = by_form (slice_get types t) refl
  where
    by_final : (final : Option Finalization) → fits.is_numbered_alone types final ≡ true → fits.is_numbered_below (fits.numbered_types types) final ≡ true
    by_final None e = refl
    by_final (Some f) e = first_part (nat_lt f.number.0 (fits.numbered_types types)) (eqb (having f.number.0 types) 1) e

    by_form : (o : Option TypeForm) → slice_get types t ≡ o → fits.is_numbered_below (fits.numbered_types types) (fits.finalization_in o) ≡ true
    by_form None is = refl
    by_form (Some (record_of name ps cs final)) is =
        by_final final (counted_alone types name ps cs final (counted_there types t (record_of name ps cs final) all is))
    by_form (Some (access_to name d pool)) is = refl
    by_form (Some (object_of r)) is = refl

-- controlled parts that are numbered in order are within their count
order_within : (types : List TypeForm) (count from : ℕ) (ps : List PartForm) → fits.parts_in_order types count from ps ≡ true → from ≤ count
order_within types count from [] e = let same = eqb-true from count e in omega (arith, same)
order_within types count from (p ∷ ps) e =
    let own = fits.parts_within types p.kind in
    let h = order_within types count (from + own) ps (second_part (eqb p.part from) (fits.parts_in_order types count (from + own) ps) e) in omega (arith, h)

order_lies : (types : List TypeForm) (count from : ℕ) (ps : List PartForm) (i : ℕ) (c : PartForm) → fits.parts_in_order types count from ps ≡ true → slice_get ps i ≡ Some c → c.part + fits.parts_within types c.kind ≤ count
order_lies types count from [] i c e is = absurd (cc is)
order_lies types count from (p ∷ ps) zero c e is =
    let same : p ≡ c = cc is in
    subst (λ (d : PartForm). d.part + fits.parts_within types d.kind ≤ count) same own_lies
  where
    own_lies : p.part + fits.parts_within types p.kind ≤ count
    own_lies =
        let own = fits.parts_within types p.kind in
        let rest = fits.parts_in_order types count (from + own) ps in
        let at = eqb-true p.part from (first_part (eqb p.part from) rest e) in
        let h = order_within types count (from + own) ps (second_part (eqb p.part from) rest e) in omega (arith, at, h)
order_lies types count from (p ∷ ps) (suc i) c e is =
    let own = fits.parts_within types p.kind in
    order_lies types count (from + own) ps i c (second_part (eqb p.part from) (fits.parts_in_order types count (from + own) ps) e) is

pub said_order : (types : List TypeForm) (final : Option Finalization) (ps : List PartForm) → fits.says_parts types final ps ≡ true → fits.parts_in_order types (fits.count_said final) 0 ps ≡ true
said_order types None ps e = e
said_order types (Some f) ps e =
    let some = nat_lt 0 f.parts in
    let in_order = fits.parts_in_order types f.parts 0 ps in
    second_part some in_order (first_part (some && in_order) (list_all (λ (p : PartForm). fits.is_of_earlier types f.number.0 p.kind) ps) e)

-- the controlled parts of a component of a record type are among those of the type
pub part_lies : (types : List TypeForm) (t : ℕ) (name : List ℕ) (ps : List PartForm) (cs : List ComponentKind) (final : Option Finalization) (i : ℕ) (c : PartForm) → list_all (fits.type_fits types) types ≡ true → slice_get types t ≡ Some (record_of name ps cs final) → slice_get ps i ≡ Some c → c.part + fits.parts_within types c.kind ≤ fits.part_count types t
part_lies types t name ps cs final i c all is at =
    let counted = counted_there types t (record_of name ps cs final) all is in
    let h = order_lies types (fits.count_said final) 0 ps i c (said_order types final ps (counted_says types name ps cs final counted)) at in
    let count : fits.part_count types t ≡ fits.count_said final = ap (λ (o : Option TypeForm). fits.count_said (fits.finalization_in o)) is in
    omega (arith, h, count)

-- one more type behind others, and another definition for a type that no component is a record of
final_more : (types : List TypeForm) (form : TypeForm) (t : ℕ) → fits.is_record types t ≡ true → IsFinalizedAlike types (types ++ form ∷ []) t
final_more types form t e = by_form (slice_get types t) refl e
  where
    by_form : (o : Option TypeForm) → slice_get types t ≡ o → is_some (fits.components_in o) ≡ true → IsFinalizedAlike types (types ++ form ∷ []) t
    by_form None is e = absurd (cc e)
    by_form (Some x) is e = ap (λ (o : Option TypeForm). bare_final (fits.finalization_in o)) (get_more types form t x is ∙ sym is)

pub alike_more : (types : List TypeForm) (form x : TypeForm) → IsLaid types x → IsAlike types (types ++ form ∷ []) x
alike_more types form (record_of name ps cs final) l =
    λ i c is. record_has (λ t. fits.is_record types t ≡ true) (IsFinalizedAlike types (types ++ form ∷ [])) (final_more types form) c.kind (l.1 i c is)
alike_more types form (access_to name d pool) l = tt
alike_more types form (object_of r) l = tt

pub alike_set : (types : List TypeForm) (i : ℕ) (form x : TypeForm) → Avoids i x → IsAlike types (slice_set types i form) x
alike_set types i form (record_of name ps cs final) a =
    λ j c is.
    record_has (λ t. t ≡ i → ⊥) (IsFinalizedAlike types (slice_set types i form))
    (λ t ne. ap (λ (o : Option TypeForm). bare_final (fits.finalization_in o)) (get_other types i t form (λ same. ne (sym same)))) c.kind (a j c is)
alike_set types i form (access_to name d pool) a = tt
alike_set types i form (object_of r) a = tt

pub counted_more : (types : List TypeForm) (form : TypeForm) → AreRecordsLaid types → IsNext (fits.numbered_types types) (final_of form) → StayCounted types (types ++ form ∷ [])
counted_more types form laid next =
    (numbers_stay types (types ++ form ∷ []) (final_of form) (one_behind types form) next, λ i x is. alike_more types form x (laid i x is))

pub counted_set : (types : List TypeForm) (i : ℕ) (x form : TypeForm) → slice_get types i ≡ Some x → final_of x ≡ None → IsUnused types i → IsNext (fits.numbered_types types) (final_of form) → StayCounted types (slice_set types i form)
counted_set types i x form is none unused next =
    (numbers_stay types (slice_set types i form) (final_of form) (one_replaced types i x form is none) next, λ j y there. alike_set types i form y (unused j y there))

-- types that are the same but for their pools and operations
final_bare : (x : TypeForm) → final_of (bare x) ≡ bare_final (final_of x)
final_bare (record_of name ps cs final) = refl
final_bare (access_to name d pool) = refl
final_bare (object_of r) = refl

bare_twice : (o : Option Finalization) → bare_final (bare_final o) ≡ bare_final o
bare_twice None = refl
bare_twice (Some f) = refl

count_forms : (p : TypeForm → Bool) → ((x : TypeForm) → p (bare x) ≡ p x) → (types : List TypeForm) → count_by p (forms types) ≡ count_by p types
count_forms p w [] = refl
count_forms p w (x ∷ types) =
    let all = count_next p (bare x) (forms types) in
    let own = count_next p x types in
    let same : one_if (p (bare x)) ≡ one_if (p x) = ap (λ (b : Bool). one_if b) (w x) in
    let rest = count_forms p w types in
    omega (arith, all, own, same, rest)

count_same : (p : TypeForm → Bool) → ((x : TypeForm) → p (bare x) ≡ p x) → (types more : List TypeForm) → forms more ≡ forms types → count_by p more ≡ count_by p types
count_same p w types more same = sym (count_forms p w more) ∙ (ap (λ (ts : List TypeForm). count_by p ts) same ∙ count_forms p w types)

pub numbered_same : (types more : List TypeForm) → forms more ≡ forms types → fits.numbered_types more ≡ fits.numbered_types types
numbered_same types more same =
    count_same (λ x. is_some (final_of x)) (λ x. ap (λ (o : Option Finalization). is_some o) (final_bare x) ∙ some_bare (final_of x)) types more same

pub final_stays : (types more : List TypeForm) → AreIn (forms types) (forms more) → (t : ℕ) → fits.is_record types t ≡ true → IsFinalizedAlike types more t
final_stays types more g t e = by_form (slice_get types t) refl e
  where
    by_form : (o : Option TypeForm) → slice_get types t ≡ o → is_some (fits.components_in o) ≡ true → IsFinalizedAlike types more t
    by_form None is e = absurd (cc e)
    by_form (Some x) is e =
        same_at types more g (λ o. bare_final (fits.finalization_in o)) (λ y. ap (λ (o : Option Finalization). bare_final o) (final_bare y) ∙ bare_twice (final_of y)) t x is ∙
        ap (λ (o : Option TypeForm). bare_final (fits.finalization_in o)) (sym is)

pub alike_stays : (types more : List TypeForm) → AreIn (forms types) (forms more) → (x : TypeForm) → IsLaid types x → IsAlike types more x
alike_stays types more g (record_of name ps cs final) l =
    λ i c is. record_has (λ t. fits.is_record types t ≡ true) (IsFinalizedAlike types more) (final_stays types more g) c.kind (l.1 i c is)
alike_stays types more g (access_to name d pool) l = tt
alike_stays types more g (object_of r) l = tt

pub counted_same : (types more : List TypeForm) → forms more ≡ forms types → AreIn (forms types) (forms more) → AreRecordsLaid types → StayCounted types more
counted_same types more same g laid = (
  (
    let all = numbered_same types more same in omega (arith, all),
    λ n less. count_same (λ x. fits.has_number n (final_of x)) (λ x. ap (λ (o : Option Finalization). fits.has_number n o) (final_bare x) ∙ number_bare n (final_of x)) types more same,
  ),
  λ i x is. alike_stays types more g x (laid i x is),
)

-- one more component behind those that are numbered in order
pub order_last : (types : List TypeForm) (count from : ℕ) (ps : List PartForm) (c : PartForm) → fits.parts_in_order types count from ps ≡ true → c.part ≡ count → fits.parts_in_order types (count + fits.parts_within types c.kind) from (ps ++ c ∷ []) ≡ true
order_last types count from [] c e at =
    let own = fits.parts_within types c.kind in
    let same = eqb-true from count e in
    both_parts (eqb c.part from) (eqb (from + own) (count + own)) (eq-eqb c.part from (omega (arith, same, at))) (eq-eqb (from + own) (count + own) (omega (arith, same)))
order_last types count from (p ∷ ps) c e at =
    let own = fits.parts_within types p.kind in
    let rest = fits.parts_in_order types count (from + own) ps in
    both_parts (eqb p.part from) (fits.parts_in_order types (count + fits.parts_within types c.kind) (from + own) (ps ++ c ∷ []))
    (first_part (eqb p.part from) rest e) (order_last types count (from + own) ps c (second_part (eqb p.part from) rest e) at)

-- it is no parent part
pub first_last : (ps : List PartForm) (c : PartForm) → fits.parent_first ps ≡ true → fits.is_parent c.kind ≡ false → fits.parent_first (ps ++ c ∷ []) ≡ true
first_last [] c e off = refl
first_last (p ∷ ps) c e off =
    all_more (λ (q : PartForm). not (fits.is_parent q.kind)) ps (c ∷ []) e (both_parts (not (fits.is_parent c.kind)) true (ap (λ (b : Bool). not b) off) refl)

-- types of components have less numbers than the next type
of_earlier : (types : List TypeForm) (kind : PartKind) → list_all (fits.type_fits types) types ≡ true → fits.is_of_earlier types (fits.numbered_types types) kind ≡ true
of_earlier types (part.Elementary kind) all = refl
of_earlier types (part.Record t) all = earlier_there types t.0 all
of_earlier types part.Parent all = refl

all_of_earlier : (types : List TypeForm) (ps : List PartForm) → list_all (fits.type_fits types) types ≡ true → list_all (λ (p : PartForm). fits.is_of_earlier types (fits.numbered_types types) p.kind) ps ≡ true
all_of_earlier types [] all = refl
all_of_earlier types (p ∷ ps) all =
    both_parts (fits.is_of_earlier types (fits.numbered_types types) p.kind) (list_all (λ (q : PartForm). fits.is_of_earlier types (fits.numbered_types types) q.kind) ps)
    (of_earlier types p.kind all) (all_of_earlier types ps all)

-- a number that is not 0
pub positive : (n : ℕ) → eqb n 0 ≡ false → 0 < n
positive zero off = absurd (cc off)
positive (suc n) off = omega arith

-- what a record type is made of is finalized as it says
pub made_next : (n : ℕ) (made : Composition) → IsNext n (finalization_made n made)
made_next n made = by_count (eqb made.controlled 0)
  where
    by_count : (b : Bool) → IsNext n (cond b None (Some (record { number = record { 0 = n }; parts = made.controlled; limited = made.limited; operations = no_operations })))
    by_count true = tt
    by_count false = refl

pub made_overrides : (n : ℕ) (made : Composition) → fits.overrides_nothing (finalization_made n made) ≡ true
made_overrides n made = by_count (eqb made.controlled 0)
  where
    by_count : (b : Bool) → fits.overrides_nothing (cond b None (Some (record { number = record { 0 = n }; parts = made.controlled; limited = made.limited; operations = no_operations }))) ≡ true
    by_count true = refl
    by_count false = refl

pub made_inherits : (n : ℕ) (made : Composition) → operations_in (finalization_made n made) ≡ no_operations
made_inherits n made = by_count (eqb made.controlled 0)
  where
    by_count : (b : Bool) → operations_in (cond b None (Some (record { number = record { 0 = n }; parts = made.controlled; limited = made.limited; operations = no_operations }))) ≡ no_operations
    by_count true = refl
    by_count false = refl

pub made_says : (types : List TypeForm) (n : ℕ) (made : Composition) → list_all (fits.type_fits types) types ≡ true → n ≡ fits.numbered_types types → fits.parts_in_order types made.controlled 0 made.parts ≡ true → fits.says_parts types (finalization_made n made) made.parts ≡ true
made_says types n made all next e = by_count (eqb made.controlled 0) refl
  where
    by_count : (b : Bool) → eqb made.controlled 0 ≡ b → fits.says_parts types (cond b None (Some (record { number = record { 0 = n }; parts = made.controlled; limited = made.limited; operations = no_operations }))) made.parts ≡ true
    by_count true on = subst (λ (count : ℕ). fits.parts_in_order types count 0 made.parts ≡ true) (eqb-true made.controlled 0 on) e
    by_count false off =
        let some = nat_lt 0 made.controlled in
        let in_order = fits.parts_in_order types made.controlled 0 made.parts in
        both_parts (some && in_order) (list_all (λ (p : PartForm). fits.is_of_earlier types n p.kind) made.parts)
        (both_parts some in_order (lt-ltb 0 made.controlled (positive made.controlled off)) e)
        (subst (λ (m : ℕ). list_all (λ (p : PartForm). fits.is_of_earlier types m p.kind) made.parts ≡ true) (sym next) (all_of_earlier types made.parts all))

-- a record type of these components says how many controlled parts it has, with the next number, and overrides nothing yet
abbrev pub SaysParts : List TypeForm → List PartForm → Option Finalization → Type 0
SaysParts types ps final =
    IsNext (fits.numbered_types types) final × (fits.parent_first ps ≡ true) × (fits.says_parts types final ps ≡ true) × (fits.overrides_nothing final ≡ true)

-- so it is counted where it is one more type
pub record_counted : (types more : List TypeForm) (name : List ℕ) (ps : List PartForm) (cs : List ComponentKind) (final : Option Finalization) → list_all (fits.type_fits types) types ≡ true → OneMore types more final → IsAlike types more (record_of name ps cs final) → SaysParts types ps final → is_counted more (record_of name ps cs final) ≡ true
record_counted types more name ps cs final all one alike w =
    let first = fits.parent_first ps in
    let says : Bool = fits.says_parts more final ps in
    let alone : Bool = fits.is_numbered_alone more final in
    both_parts (first && says) alone (both_parts first says w.1 (says_alike types more final ps alike ∙ w.2)) (next_alone types more final all one w.0)

-- as many types are counted as there are then
pub counts_on : (types more : List TypeForm) (final : Option Finalization) (n : ℕ) → OneMore types more final → n ≡ fits.numbered_types types → counted final n ≡ fits.numbered_types more
counts_on types more None n one same = let all = one.numbered in omega (arith, all, same)
counts_on types more (Some f) n one same = let all = one.numbered in omega (arith, all, same)
