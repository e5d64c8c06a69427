-- What storage sees of a heap that changes.

use Rattle.std.proofs.Common.{◌≡◌, ◌≢◌, ℕ, zero, suc, ◌+◌, ◌≤◌, Bool, true, false, cond, if◌then◌else◌, List, [], ◌∷◌, ◌++◌, length, map, Option, Some, None, refl, sym, ap, ◌∙◌, inl, inr, subst, arith}
use Rattle.std.specs.Prelude.{◌==◌}
use Rattle.std.specs.List.{slice_get, slice_set}
use Rattle.std.proofs.lemmas.List.{append_assoc, map-append}
use Rattle.std.proofs.lemmas.Bool.Decides.{eqb_tells}
use Rattle.ada_meaning.specs.declared.state.Id.{Id}
use Rattle.ada_meaning.specs.declared.state.Value.{Value}
use Rattle.ada_meaning.specs.declared.state.Value.TheVariants.{Null, Names, Scalar, Part}
use Rattle.ada_meaning.specs.declared.state.Stage.TheVariants.{Gone}
use Rattle.ada_meaning.specs.Heap.{PartState}
use Rattle.ada_meaning.specs.State.{Master}
use Rattle.ada_meaning.specs.Step.{stored_from}
use Rattle.ada_meaning.specs.Named.{Object, named, treated, changed, on_object, filled, finished, parted, returned, store, is_member, members_from}
use Rattle.ada_storage.specs.State.{put, in_list, without}
use Rattle.ada_storage.proofs.Facts.{eq_self, eq_not, same_other}
use Rattle.ada_following.specs.Reading.{number, listed_in, is_out, joins_seen, part_of}
use Rattle.ada_following.proofs.Places.{in_without}

abbrev pub Heap : Type 0
Heap = List Object

-- Entries of a list that changes.
pub set_here : {X : Type 0} (xs : List X) (i : ℕ) (x y : X) → slice_get xs i ≡ Some x → slice_get (slice_set xs i y) i ≡ Some y
set_here [] i x y is = absurd (cc)
set_here (z ∷ xs) zero x y is = refl
set_here (z ∷ xs) (suc i) x y is = set_here xs i x y is

pub set_there : {X : Type 0} (xs : List X) (i o : ℕ) (x y : X) → slice_get xs i ≡ Some x → o ≢ i → slice_get (slice_set xs i y) o ≡ slice_get xs o
set_there [] i o x y is ne = absurd (cc)
set_there (z ∷ xs) zero zero x y is ne = absurd (ne refl)
set_there (z ∷ xs) zero (suc o) x y is ne = refl
set_there (z ∷ xs) (suc i) zero x y is ne = refl
set_there (z ∷ xs) (suc i) (suc o) x y is ne = set_there xs i o x y is (λ e. ne (ap suc e))

pub add_here : {X : Type 0} (xs : List X) (x : X) → slice_get (xs ++ x ∷ []) (length xs) ≡ Some x
add_here [] x = refl
add_here (z ∷ xs) x = add_here xs x

pub add_there : {X : Type 0} (xs : List X) (x : X) (o : ℕ) → o ≢ length xs → slice_get (xs ++ x ∷ []) o ≡ slice_get xs o
add_there [] x zero ne = absurd (ne refl)
add_there [] x (suc o) ne = refl
add_there (z ∷ xs) x zero ne = refl
add_there (z ∷ xs) x (suc o) ne = add_there xs x o (λ e. ne (ap suc e))

-- A table of entries is that of before, but for one entry.
pub put_set : {X Y : Type 0} (f : Option X → Y) (xs : List X) (i : ℕ) (x y : X) → slice_get xs i ≡ Some x → (o : ℕ) → f (slice_get (slice_set xs i y) o) ≡ put (λ j. f (slice_get xs j)) i (f (Some y)) o
put_set f xs i x y is o = elim (eqb_tells o i) [ inl h ↦ at_i h.0 h.1 | inr h ↦ (ap f (set_there xs i o x y is h.1) ∙ sym (ap (λ b. cond b (f (Some y)) (f (slice_get xs o))) h.0)) ]
  where
    at_i : (o == i) ≡ true → o ≡ i → f (slice_get (slice_set xs i y) o) ≡ put (λ j. f (slice_get xs j)) i (f (Some y)) o
    at_i b e = ap (λ j. f (slice_get (slice_set xs i y) j)) e ∙ ap f (set_here xs i x y is) ∙ sym (ap (λ c. cond c (f (Some y)) (f (slice_get xs o))) b)

pub put_add : {X Y : Type 0} (f : Option X → Y) (xs : List X) (x : X) (o : ℕ) → f (slice_get (xs ++ x ∷ []) o) ≡ put (λ j. f (slice_get xs j)) (length xs) (f (Some x)) o
put_add f xs x o = elim (eqb_tells o (length xs)) [ inl h ↦ at_end h.0 h.1 | inr h ↦ (ap f (add_there xs x o h.1) ∙ sym (ap (λ b. cond b (f (Some x)) (f (slice_get xs o))) h.0)) ]
  where
    at_end : (o == length xs) ≡ true → o ≡ length xs → f (slice_get (xs ++ x ∷ []) o) ≡ put (λ j. f (slice_get xs j)) (length xs) (f (Some x)) o
    at_end b e = ap (λ j. f (slice_get (xs ++ x ∷ []) j)) e ∙ ap f (add_here xs x) ∙ sym (ap (λ c. cond c (f (Some x)) (f (slice_get xs o))) b)

pub put_same : {X Y : Type 0} (f : Option X → Y) (xs : List X) (i : ℕ) (x y : X) → slice_get xs i ≡ Some x → f (Some y) ≡ f (Some x) → (o : ℕ) → f (slice_get (slice_set xs i y) o) ≡ f (slice_get xs o)
put_same f xs i x y is same o = elim (eqb_tells o i) [ inl h ↦ at_i h.1 | inr h ↦ ap f (set_there xs i o x y is h.1) ]
  where
    at_i : o ≡ i → f (slice_get (slice_set xs i y) o) ≡ f (slice_get xs o)
    at_i e = ap (λ j. f (slice_get (slice_set xs i y) j)) e ∙ ap f (set_here xs i x y is) ∙ same ∙ sym (ap f is) ∙ sym (ap (λ j. f (slice_get xs j)) e)

-- Members, as numbers from one on.
abbrev from : (item n : ℕ) → Heap → List ℕ
from item n xs = map number (members_from item n xs)

abbrev own : Bool → ℕ → List ℕ
own true n = n ∷ []
own false n = []

own_is : (b : Bool) (n : ℕ) → map number (if b then record { 0 = n } ∷ [] else []) ≡ own b n
own_is true n = refl
own_is false n = refl

from_first : (item n : ℕ) (x : Object) (xs : Heap) → from item n (x ∷ xs) ≡ from item (suc n) xs ++ own (is_member item x) n
from_first item n x xs =
    map-append number (members_from item (suc n) xs) (if is_member item x then record { 0 = n } ∷ [] else [])
    ∙ ap (λ (ys : List ℕ). from item (suc n) xs ++ ys) (own_is (is_member item x) n)

own_nil : (b : Bool) (n : ℕ) → own b n ++ [] ≡ own b n
own_nil true n = refl
own_nil false n = refl

nil_right : (xs : List ℕ) → xs ++ [] ≡ xs
nil_right [] = refl
nil_right (x ∷ xs) = ap (λ (ys : List ℕ). x ∷ ys) (nil_right xs)

-- One object more: the newest.
from_add : (item n : ℕ) (xs : Heap) (x : Object) → from item n (xs ++ x ∷ []) ≡ own (is_member item x) (n + length xs) ++ from item n xs
from_add item n [] x =
    let here : n ≡ n + 0 = omega arith in
    from_first item n x [] ∙ ap (own (is_member item x)) here ∙ sym (own_nil (is_member item x) (n + 0))
from_add item n (y ∷ xs) x =
    let here : suc n + length xs ≡ n + length (y ∷ xs) = omega arith in
    let o = own (is_member item x) (n + length (y ∷ xs)) in
    from_first item n y (xs ++ x ∷ [])
    ∙ ap (λ (ys : List ℕ). ys ++ own (is_member item y) n) (from_add item (suc n) xs x ∙ ap (λ (j : ℕ). own (is_member item x) j ++ from item (suc n) xs) here)
    ∙ append_assoc o (from item (suc n) xs) (own (is_member item y) n)
    ∙ ap (λ (ys : List ℕ). o ++ ys) (sym (from_first item n y xs))

-- One changes, and is a member as before.
from_set : (item n : ℕ) (xs : Heap) (i : ℕ) (x y : Object) → slice_get xs i ≡ Some x → is_member item y ≡ is_member item x → from item n (slice_set xs i y) ≡ from item n xs
from_set item n [] i x y is same = absurd (cc)
from_set item n (z ∷ xs) zero x y is same =
    let one : z ≡ x = cc in
    from_first item n y xs ∙ ap (λ (b : Bool). from item (suc n) xs ++ own b n) (same ∙ sym (ap (is_member item) one)) ∙ sym (from_first item n z xs)
from_set item n (z ∷ xs) (suc i) x y is same =
    from_first item n z (slice_set xs i y)
    ∙ ap (λ (ys : List ℕ). ys ++ own (is_member item z) n) (from_set item (suc n) xs i x y is same)
    ∙ sym (from_first item n z xs)

-- One leaves.
without_by : (o x : ℕ) (b : Bool) (xs ys : List ℕ) → without o (xs ++ ys) ≡ without o xs ++ without o ys → cond b (without o (xs ++ ys)) (x ∷ without o (xs ++ ys)) ≡ cond b (without o xs) (x ∷ without o xs) ++ without o ys
without_by o x true xs ys e = e
without_by o x false xs ys e = ap (λ (zs : List ℕ). x ∷ zs) e

without_append : (o : ℕ) (xs ys : List ℕ) → without o (xs ++ ys) ≡ without o xs ++ without o ys
without_append o [] ys = refl
without_append o (x ∷ xs) ys = without_by o x (x == o) xs ys (without_append o xs ys)

abbrev AtLeast : ℕ → List ℕ → Type 0
AtLeast n [] = Unit {0}
AtLeast n (x ∷ xs) = (n ≤ x) × AtLeast n xs

at_least_both : (n : ℕ) (xs ys : List ℕ) → AtLeast n xs → AtLeast n ys → AtLeast n (xs ++ ys)
at_least_both n [] ys a b = b
at_least_both n (x ∷ xs) ys a b = (a.0, at_least_both n xs ys a.1 b)

at_least_own : (n m : ℕ) (b : Bool) → m ≤ n → AtLeast m (own b n)
at_least_own n m true le = (le, tt)
at_least_own n m false le = tt

from_at_least : (item m n : ℕ) (xs : Heap) → m ≤ n → AtLeast m (from item n xs)
from_at_least item m n [] le = tt
from_at_least item m n (x ∷ xs) le =
    subst (λ (ys : List ℕ). AtLeast m ys) (sym (from_first item n x xs))
    (at_least_both m (from item (suc n) xs) (own (is_member item x) n) (from_at_least item m (suc n) xs (omega (arith, le))) (at_least_own n m (is_member item x) le))

without_none : (o : ℕ) (xs : List ℕ) → AtLeast (suc o) xs → without o xs ≡ xs
without_none o [] a = refl
without_none o (x ∷ xs) a =
    let lt = a.0 in
    ap (λ (b : Bool). cond b (without o xs) (x ∷ without o xs)) (eq_not x o (λ e. omega (arith, lt, e))) ∙ ap (λ (ys : List ℕ). x ∷ ys) (without_none o xs a.1)

without_own : (o : ℕ) (b : Bool) → without o (own b o) ≡ []
without_own o true = ap (λ (b : Bool). cond b [] (o ∷ [])) (eq_self o)
without_own o false = refl

without_other : (o n : ℕ) (b : Bool) → n ≢ o → without o (own b n) ≡ own b n
without_other o n true ne = ap (λ (b : Bool). cond b [] (n ∷ [])) (eq_not n o ne)
without_other o n false ne = refl

from_leaves : (item n : ℕ) (xs : Heap) (i : ℕ) (x y : Object) → slice_get xs i ≡ Some x → is_member item y ≡ false → from item n (slice_set xs i y) ≡ without (n + i) (from item n xs)
from_leaves item n [] i x y is off = absurd (cc)
from_leaves item n (z ∷ xs) zero x y is off =
    let here : n ≡ n + 0 = omega arith in
    from_first item n y xs ∙ ap (λ (b : Bool). from item (suc n) xs ++ own b n) off
    ∙ ap (λ (ys : List ℕ). ys ++ []) (sym (without_none n (from item (suc n) xs) (from_at_least item (suc n) (suc n) xs (omega arith))))
    ∙ ap (λ (ys : List ℕ). without n (from item (suc n) xs) ++ ys) (sym (without_own n (is_member item z)))
    ∙ sym (without_append n (from item (suc n) xs) (own (is_member item z) n))
    ∙ ap (λ (o : ℕ). without o (from item (suc n) xs ++ own (is_member item z) n)) here
    ∙ ap (without (n + 0)) (sym (from_first item n z xs))
from_leaves item n (z ∷ xs) (suc i) x y is off =
    let here : suc n + i ≡ n + suc i = omega arith in
    from_first item n z (slice_set xs i y)
    ∙ ap (λ (ys : List ℕ). ys ++ own (is_member item z) n) (from_leaves item (suc n) xs i x y is off ∙ ap (λ (o : ℕ). without o (from item (suc n) xs)) here)
    ∙ ap (λ (ys : List ℕ). without (n + suc i) (from item (suc n) xs) ++ ys) (sym (without_other (n + suc i) n (is_member item z) (λ e. omega (arith, e))))
    ∙ sym (without_append (n + suc i) (from item (suc n) xs) (own (is_member item z) n))
    ∙ ap (without (n + suc i)) (sym (from_first item n z xs))

-- The pool of an object, if there is one.
abbrev pub pool_of : Option Object → Option ℕ
pool_of None = None
pool_of (Some x) = x.cell.home.pool

-- The type that it is known by, and its controlled parts.
abbrev pub access_of : Option Object → Option ℕ
access_of None = None
access_of (Some x) = Some x.cell.access

-- The words of an object go back once it has ceased to exist; and what is in its collection exists.
abbrev pub IsFine : Object → Type 0
IsFine x = (x.out ≡ false → x.stage ≡ Gone) × (x.listed ≡ true → x.stage ≡ Gone → ⊥)

abbrev pub AreFine : Heap → Type 0
AreFine xs = (o : ℕ) (x : Object) → slice_get xs o ≡ Some x → IsFine x

fine_set : (xs : Heap) (i : ℕ) (x y : Object) → slice_get xs i ≡ Some x → IsFine y → AreFine xs → AreFine (slice_set xs i y)
fine_set xs i x y is fine all o z at_o = elim (eqb_tells o i) [ inl h ↦ now h.1 | inr h ↦ all o z (sym (set_there xs i o x y is h.1) ∙ at_o) ]
  where
    now : o ≡ i → IsFine z
    now e =
        let one : Some y ≡ Some z = sym (set_here xs i x y is) ∙ ap (λ j. slice_get (slice_set xs i y) j) (sym e) ∙ at_o in
        let same : y ≡ z = cc in
        subst IsFine same fine

pub fine_add : (xs : Heap) (x : Object) → IsFine x → AreFine xs → AreFine (xs ++ x ∷ [])
fine_add xs x fine all o z at_o = elim (eqb_tells o (length xs)) [ inl h ↦ now h.1 | inr h ↦ all o z (sym (add_there xs x o h.1) ∙ at_o) ]
  where
    now : o ≡ length xs → IsFine z
    now e =
        let one : Some x ≡ Some z = sym (add_here xs x) ∙ ap (λ j. slice_get (xs ++ x ∷ []) j) (sym e) ∙ at_o in
        let same : x ≡ z = cc in
        subst IsFine same fine

length_set : (xs : Heap) (i : ℕ) (y : Object) → length (slice_set xs i y) ≡ length xs
length_set [] i y = refl
length_set (z ∷ xs) zero y = refl
length_set (z ∷ xs) (suc i) y = ap suc (length_set xs i y)

-- Storage sees no change.
pub record Alike (xs ys : Heap) : Type 0 where
  pub listed : (n : ℕ) → listed_in ys n ≡ listed_in xs n
  pub out : (o : ℕ) → is_out (slice_get ys o) ≡ is_out (slice_get xs o)
  pub pool : (o : ℕ) → pool_of (slice_get ys o) ≡ pool_of (slice_get xs o)
  pub joins : (o : ℕ) (ms : List Master) → joins_seen (slice_get ys o) ms ≡ joins_seen (slice_get xs o) ms
  pub access : (o : ℕ) → access_of (slice_get ys o) ≡ access_of (slice_get xs o)
  pub parts : (o p : ℕ) → part_of (slice_get ys o) p ≡ part_of (slice_get xs o) p
  pub fine : AreFine xs → AreFine ys
  pub count : length ys ≡ length xs

pub alike_same : (xs : Heap) → Alike xs xs
alike_same xs = record { listed = λ n. refl; out = λ o. refl; pool = λ o. refl; joins = λ o ms. refl; access = λ o. refl; parts = λ o p. refl; fine = λ f. f; count = refl }

alike_later : (xs ys zs : Heap) → Alike xs ys → Alike ys zs → Alike xs zs
alike_later xs ys zs a b = record {
  listed = λ n. b.listed n ∙ a.listed n;
  out = λ o. b.out o ∙ a.out o;
  pool = λ o. b.pool o ∙ a.pool o;
  joins = λ o ms. b.joins o ms ∙ a.joins o ms;
  access = λ o. b.access o ∙ a.access o;
  parts = λ o p. b.parts o p ∙ a.parts o p;
  fine = λ f. b.fine (a.fine f);
  count = b.count ∙ a.count;
}

alike_filled : (xs : Heap) (o : Id) (c : ℕ) (v : Value) (found : Option Object) → slice_get xs o.0 ≡ found → Alike xs (changed (filled c v) found xs o)
alike_filled xs o c v None is = alike_same xs
alike_filled xs o c v (Some x) is = record {
  listed = λ n. from_set n 0 xs o.0 x (filled c v x) is refl;
  out = put_same is_out xs o.0 x (filled c v x) is refl;
  pool = put_same pool_of xs o.0 x (filled c v x) is refl;
  joins = λ y ms. put_same (λ f. joins_seen f ms) xs o.0 x (filled c v x) is refl y;
  access = put_same access_of xs o.0 x (filled c v x) is refl;
  parts = λ y p. put_same (λ f. part_of f p) xs o.0 x (filled c v x) is refl y;
  fine = λ all. fine_set xs o.0 x (filled c v x) is (all o.0 x is) all;
  count = length_set xs o.0 (filled c v x);
}

alike_store : (xs : Heap) (o : Value) (c : ℕ) (v : Value) → Alike xs (store xs o c v)
alike_store xs Null c v = alike_same xs
alike_store xs (Names o) c v = alike_filled xs o c v (slice_get xs o.0) refl
alike_store xs (Scalar u) c v = alike_same xs
alike_store xs (Part o first) c v = alike_same xs

pub alike_stored : (xs : Heap) (o : Value) (c : ℕ) (vs : List Value) → Alike xs (stored_from named xs o c vs)
alike_stored xs o c [] = alike_same xs
alike_stored xs o c (v ∷ vs) =
    alike_later xs (store xs o c v) (stored_from named (store xs o c v) o (c + 1) vs) (alike_store xs o c v) (alike_stored (store xs o c v) o (c + 1) vs)

-- An object leaves its collection, if it was in one.
pub record Unlists (o : ℕ) (xs ys : Heap) : Type 0 where
  pub listed : (n : ℕ) → listed_in ys n ≡ without o (listed_in xs n)
  pub out : (o : ℕ) → is_out (slice_get ys o) ≡ is_out (slice_get xs o)
  pub pool : (o : ℕ) → pool_of (slice_get ys o) ≡ pool_of (slice_get xs o)
  pub joins : (o : ℕ) (ms : List Master) → joins_seen (slice_get ys o) ms ≡ joins_seen (slice_get xs o) ms
  pub access : (o : ℕ) → access_of (slice_get ys o) ≡ access_of (slice_get xs o)
  pub parts : (o p : ℕ) → part_of (slice_get ys o) p ≡ part_of (slice_get xs o) p
  pub fine : AreFine xs → AreFine ys
  pub count : length ys ≡ length xs

member_off : (n : ℕ) (x : Object) → x.listed ≡ false → is_member n x ≡ false
member_off n x off = rw off refl

zero_first : (i : ℕ) (xs : List ℕ) → without (0 + i) xs ≡ without i xs
zero_first i xs = let here : 0 + i ≡ i = omega arith in ap (λ o. without o xs) here

pub unlists_parted : (xs : Heap) (o : Id) (x : Object) → slice_get xs o.0 ≡ Some x → Unlists o.0 xs (on_object parted xs (Names o))
unlists_parted xs o x is = subst (Unlists o.0 xs) (sym (ap (λ f. changed parted f xs o) is)) (record {
  listed = λ n. from_leaves n 0 xs o.0 x (parted x) is (member_off n (parted x) refl) ∙ zero_first o.0 (from n 0 xs);
  out = put_same is_out xs o.0 x (parted x) is refl;
  pool = put_same pool_of xs o.0 x (parted x) is refl;
  joins = λ y ms. put_same (λ f. joins_seen f ms) xs o.0 x (parted x) is refl y;
  access = put_same access_of xs o.0 x (parted x) is refl;
  parts = λ y p. put_same (λ f. part_of f p) xs o.0 x (parted x) is refl y;
  fine = λ all. fine_set xs o.0 x (parted x) is ((all o.0 x is).0, λ b. absurd (cc b)) all;
  count = length_set xs o.0 (parted x);
})

pub unlists_finished : (xs : Heap) (o : Id) (x : Object) → slice_get xs o.0 ≡ Some x → Unlists o.0 xs (on_object finished xs (Names o))
unlists_finished xs o x is = subst (Unlists o.0 xs) (sym (ap (λ f. changed finished f xs o) is)) (record {
  listed = λ n. from_leaves n 0 xs o.0 x (finished x) is (member_off n (finished x) refl) ∙ zero_first o.0 (from n 0 xs);
  out = put_same is_out xs o.0 x (finished x) is refl;
  pool = put_same pool_of xs o.0 x (finished x) is refl;
  joins = λ y ms. put_same (λ f. joins_seen f ms) xs o.0 x (finished x) is refl y;
  access = put_same access_of xs o.0 x (finished x) is refl;
  parts = λ y p. put_same (λ f. part_of f p) xs o.0 x (finished x) is refl y;
  fine = λ all. fine_set xs o.0 x (finished x) is ((λ b. refl), λ b. absurd (cc b)) all;
  count = length_set xs o.0 (finished x);
})

-- Its words go back.
pub record Returns (o : ℕ) (xs ys : Heap) : Type 0 where
  pub listed : (n : ℕ) → listed_in ys n ≡ listed_in xs n
  pub out : (x : ℕ) → is_out (slice_get ys x) ≡ put (λ j. is_out (slice_get xs j)) o false x
  pub pool : (o : ℕ) → pool_of (slice_get ys o) ≡ pool_of (slice_get xs o)
  pub joins : (o : ℕ) (ms : List Master) → joins_seen (slice_get ys o) ms ≡ joins_seen (slice_get xs o) ms
  pub access : (o : ℕ) → access_of (slice_get ys o) ≡ access_of (slice_get xs o)
  pub parts : (o p : ℕ) → part_of (slice_get ys o) p ≡ part_of (slice_get xs o) p
  pub fine : AreFine ys
  pub count : length ys ≡ length xs

pub returns_returned : (xs : Heap) (o : Id) (x : Object) → slice_get xs o.0 ≡ Some x → x.stage ≡ Gone → AreFine xs → Returns o.0 xs (on_object returned xs (Names o))
returns_returned xs o x is gone all = subst (Returns o.0 xs) (sym (ap (λ f. changed returned f xs o) is)) (record {
  listed = λ n. from_set n 0 xs o.0 x (returned x) is refl;
  out = put_set is_out xs o.0 x (returned x) is;
  pool = put_same pool_of xs o.0 x (returned x) is refl;
  joins = λ y ms. put_same (λ f. joins_seen f ms) xs o.0 x (returned x) is refl y;
  access = put_same access_of xs o.0 x (returned x) is refl;
  parts = λ y p. put_same (λ f. part_of f p) xs o.0 x (returned x) is refl y;
  fine = fine_set xs o.0 x (returned x) is ((λ b. gone), (all o.0 x is).1) all;
  count = length_set xs o.0 (returned x);
})

-- One object more is there.
pub added_elsewhere : (xs : Heap) (x : Object) (n : ℕ) → is_member n x ≡ false → listed_in (xs ++ x ∷ []) n ≡ listed_in xs n
added_elsewhere xs x n off = from_add n 0 xs x ∙ ap (λ (b : Bool). own b (0 + length xs) ++ from n 0 xs) off

pub added_there : (xs : Heap) (x : Object) (n : ℕ) → is_member n x ≡ true → listed_in (xs ++ x ∷ []) n ≡ length xs ∷ listed_in xs n
added_there xs x n on =
    let here : 0 + length xs ≡ length xs = omega arith in
    from_add n 0 xs x ∙ ap (λ (b : Bool). own b (0 + length xs) ++ from n 0 xs) on ∙ ap (λ (j : ℕ). j ∷ from n 0 xs) here

-- It was not listed before.
in_both_lists : (o : ℕ) (xs ys : List ℕ) → in_list o (xs ++ ys) ≡ in_list o xs + in_list o ys
in_both_lists o [] ys = omega arith
in_both_lists o (x ∷ xs) ys = let e = in_both_lists o xs ys in omega (arith, e)

own_below : (o n : ℕ) (b : Bool) → n ≢ o → in_list o (own b n) ≡ 0
own_below o n true ne = let e = same_other o n (λ d. ne (sym d)) in omega (arith, e)
own_below o n false ne = refl

from_below : (o item n : ℕ) (xs : Heap) → n + length xs ≤ o → in_list o (from item n xs) ≡ 0
from_below o item n [] le = refl
from_below o item n (x ∷ xs) le =
    let a = ap (in_list o) (from_first item n x xs) in
    let b = in_both_lists o (from item (suc n) xs) (own (is_member item x) n) in
    let c = from_below o item (suc n) xs (omega (arith, le)) in
    let d = own_below o n (is_member item x) (λ e. omega (arith, le, e)) in
    omega (arith, a, b, c, d)

pub not_listed : (xs : Heap) (item : ℕ) → in_list (length xs) (listed_in xs item) ≡ 0
not_listed xs item = from_below (length xs) item 0 xs (omega arith)

-- A part of an object changes.
pub record Changes (o : ℕ) (xs ys : Heap) : Type 0 where
  pub listed : (n : ℕ) → listed_in ys n ≡ listed_in xs n
  pub out : (o : ℕ) → is_out (slice_get ys o) ≡ is_out (slice_get xs o)
  pub pool : (o : ℕ) → pool_of (slice_get ys o) ≡ pool_of (slice_get xs o)
  pub joins : (o : ℕ) (ms : List Master) → joins_seen (slice_get ys o) ms ≡ joins_seen (slice_get xs o) ms
  pub access : (o : ℕ) → access_of (slice_get ys o) ≡ access_of (slice_get xs o)
  pub fine : AreFine xs → AreFine ys
  pub count : length ys ≡ length xs

pub changes_treated : (change : PartState → PartState) (xs : Heap) (o : Id) (p : ℕ) (x : Object) → slice_get xs o.0 ≡ Some x → Changes o.0 xs (on_object (treated change p) xs (Names o))
changes_treated change xs o p x is = subst (Changes o.0 xs) (sym (ap (λ f. changed (treated change p) f xs o) is)) (record {
  listed = λ n. from_set n 0 xs o.0 x (treated change p x) is refl;
  out = put_same is_out xs o.0 x (treated change p x) is refl;
  pool = put_same pool_of xs o.0 x (treated change p x) is refl;
  joins = λ y ms. put_same (λ f. joins_seen f ms) xs o.0 x (treated change p x) is refl y;
  access = put_same access_of xs o.0 x (treated change p x) is refl;
  fine = λ all. fine_set xs o.0 x (treated change p x) is (all o.0 x is) all;
  count = length_set xs o.0 (treated change p x);
})

pub treated_there : (change : PartState → PartState) (xs : Heap) (o : Id) (p : ℕ) (x : Object) → slice_get xs o.0 ≡ Some x → slice_get (on_object (treated change p) xs (Names o)) o.0 ≡ Some (treated change p x)
treated_there change xs o p x is = ap (λ f. slice_get (changed (treated change p) f xs o) o.0) is ∙ set_here xs o.0 x (treated change p x) is

-- A member of a collection is in it.
pub member_listed : (xs : Heap) (n o i : ℕ) (x : Object) → slice_get xs o ≡ Some x → in_list o (listed_in xs n) ≡ suc i → x.listed ≡ true
member_listed xs n o i x is some = go x.listed refl
  where
    go : (b : Bool) → x.listed ≡ b → x.listed ≡ true
    go true e = e
    go false e =
        let off = member_off n x e in
        let same_one = from_set n 0 xs o x x is refl in
        let gone = from_leaves n 0 xs o x x is off in
        let all : listed_in xs n ≡ without o (listed_in xs n) = sym same_one ∙ gone ∙ zero_first o (from n 0 xs) in
        let none = in_without o (listed_in xs n) in
        let both = ap (in_list o) all in
        absurd (omega (arith, some, both, none))
