-- The members of collections, and what is kept of them, as objects are created, leave their collections and change.

use Rattle.std.proofs.Common.{◌≡◌, ℕ, zero, suc, ◌+◌, ◌-◌, ◌<◌, ◌≤◌, Bool, true, false, not, ◌&&◌, cond, eqb, List, [], ◌∷◌, ◌++◌, length, take, reverse, map, Option, Some, None, refl, ap, ◌∙◌, sym, subst, inl, inr, arith, zero-add, add-zero, append-nil, append_assoc, length-append}
use Rattle.std.proofs.Math.ListN.{set}
use Rattle.std.specs.List.{slice_get, filter}
use Rattle.std.proofs.lemmas.Bool.{eq-eqb, ne_eqb, cases_eq}
use Rattle.std.proofs.lemmas.List.{reverse-append, get_or-set_same, get_or-set_other, length-set, length-map}
use Rattle.std.proofs.lemmas.List.Elements.{filter-append}
use Rattle.ada_meaning.specs.declared.state.Id.{Id}
use Rattle.ada_meaning.specs.declared.state.Value.{Value}
use Rattle.ada_meaning.specs.declared.state.Value.TheVariants.{Names}
use Rattle.ada_meaning.specs.Heap.{Cell, PartState}
use Rattle.ada_meaning.specs.Named.{Object, object_at, changed, parted, finished, returned, filled, new_object, is_member, members_from, members_of}
use Rattle.ada_interpreter.specs.Objects.{is_member_by, is_member_at, members_among, Kept, nothing_kept, kept_at, AreGiven, Shows, AreShelved, entered, discounted, discounted_at, listed_home, gone, filled_from, with_part_state, Trims, IsTidied}
use Rattle.ada_untouched.specs.Past.{is_gone, is_past, nothing_left, forgotten}

-- a name other than the one of this number
abbrev is_other : ℕ → Id → Bool
is_other k o = not (eqb o.0 k)

-- one name, where a test passes
abbrev one_if : Bool → ℕ → List Id
one_if b n = cond b (record { 0 = n } ∷ []) []

one_if_length : (b : Bool) (n : ℕ) → length (one_if b n) ≡ cond b 1 0
one_if_length true n = refl
one_if_length false n = refl

other_kept : (k n : ℕ) (b : Bool) → (n ≡ k → ⊥) → filter (is_other k) (one_if b n) ≡ one_if b n
other_kept k n true apart = rw (ne_eqb n k apart) refl
other_kept k n false apart = refl

other_gone : (k : ℕ) (b : Bool) → filter (is_other k) (one_if b k) ≡ []
other_gone k true = rw (eq-eqb k k refl) refl
other_gone k false = refl

-- a new object
pub members-append : (item n : ℕ) (xs : List Object) (y : Object) → members_from item n (xs ++ y ∷ []) ≡ one_if (is_member item y) (n + length xs) ++ members_from item n xs
members-append item n [] y = rw (add-zero) (sym (append-nil (one_if (is_member item y) n)))
members-append item n (x ∷ xs) y =
    let m = members-append item (suc n) xs y in
    let e : suc n + length xs ≡ n + suc (length xs) = omega arith in
    rw (m, e) (append_assoc (one_if (is_member item y) (n + suc (length xs))) (members_from item (suc n) xs) (one_if (is_member item x) n))

-- names are counted up: none of these is below the first
fresh : (item n k : ℕ) (xs : List Object) → k < n → filter (is_other k) (members_from item n xs) ≡ members_from item n xs
fresh item n k [] below = refl
fresh item n k (x ∷ xs) below =
    rw (filter-append (is_other k) (members_from item (suc n) xs) (one_if (is_member item x) n), fresh item (suc n) k xs (omega arith), other_kept k n (is_member item x) (λ e. omega arith)) refl

-- an object leaves its collection
pub members-parted : (item n k : ℕ) (xs : List Object) (x : Object) → slice_get xs k ≡ Some x → members_from item n (set xs k (parted x)) ≡ filter (is_other (n + k)) (members_from item n xs)
members-parted item n k [] x here = absurd (cc)
members-parted item n zero (y ∷ xs) x here =
    rw (add-zero, filter-append (is_other n) (members_from item (suc n) xs) (one_if (is_member item y) n), fresh item (suc n) n xs (omega arith), other_gone n (is_member item y)) refl
members-parted item n (suc k) (y ∷ xs) x here =
    let m = members-parted item (suc n) k xs x here in
    let e : suc n + k ≡ n + suc k = omega arith in
    rw (m, filter-append (is_other (n + suc k)) (members_from item (suc n) xs) (one_if (is_member item y) n), e, other_kept (n + suc k) n (is_member item y) (λ e. omega arith)) refl

pub count-parted : (item n k : ℕ) (xs : List Object) (x : Object) → slice_get xs k ≡ Some x → length (members_from item n (set xs k (parted x))) + cond (is_member item x) 1 0 ≡ length (members_from item n xs)
count-parted item n k [] x here = absurd (cc)
count-parted item n zero (y ∷ xs) x here =
    let e : y ≡ x = cc in
    rw (e, length-append (members_from item (suc n) xs) [], length-append (members_from item (suc n) xs) (one_if (is_member item x) n), one_if_length (is_member item x) n) (omega arith)
count-parted item n (suc k) (y ∷ xs) x here =
    let m = count-parted item (suc n) k xs x here in
    omega (arith, length-append (members_from item (suc n) (set xs k (parted x))) (one_if (is_member item y) n), length-append (members_from item (suc n) xs) (one_if (is_member item y) n))

-- an object changes, and is in its collection as before
pub members-same : (item n k : ℕ) (xs : List Object) (x y : Object) → slice_get xs k ≡ Some x → is_member item y ≡ is_member item x → members_from item n (set xs k y) ≡ members_from item n xs
members-same item n k [] x y here same = absurd (cc)
members-same item n zero (z ∷ xs) x y here same =
    let e : z ≡ x = cc in rw (same, e) refl
members-same item n (suc k) (z ∷ xs) x y here same = rw (members-same item (suc n) k xs x y here same) refl

-- what a name is for, in a list that has grown or changed
get-append : {X : Type 0} (xs ys : List X) (i : ℕ) → i < length xs → slice_get (xs ++ ys) i ≡ slice_get xs i
get-append [] ys i below = absurd (omega arith)
get-append (x ∷ xs) ys zero below = refl
get-append (x ∷ xs) ys (suc i) below = get-append xs ys i (omega arith)

get-seam : {X : Type 0} (xs : List X) (y : X) → slice_get (xs ++ y ∷ []) (length xs) ≡ Some y
get-seam [] y = refl
get-seam (x ∷ xs) y = get-seam xs y

get-set_same : {X : Type 0} (xs : List X) (i : ℕ) (x y : X) → slice_get xs i ≡ Some x → slice_get (set xs i y) i ≡ Some y
get-set_same [] i x y here = absurd (cc)
get-set_same (z ∷ xs) zero x y here = refl
get-set_same (z ∷ xs) (suc i) x y here = get-set_same xs i x y here

get-set_other : {X : Type 0} (xs : List X) (i j : ℕ) (y : X) → (j ≡ i → ⊥) → slice_get (set xs i y) j ≡ slice_get xs j
get-set_other [] i j y apart = refl
get-set_other (z ∷ xs) zero zero y apart = absurd (apart refl)
get-set_other (z ∷ xs) zero (suc j) y apart = refl
get-set_other (z ∷ xs) (suc i) zero y apart = refl
get-set_other (z ∷ xs) (suc i) (suc j) y apart = get-set_other xs i j y (λ e. apart (ap suc e))

-- names that were given
given-more : (n m : ℕ) (names : List Id) → n ≤ m → AreGiven n names → AreGiven m names
given-more n m [] more given = tt
given-more n m (o ∷ names) more given = (omega (arith, given.0), given-more n m names more given.1)

given-append : (n : ℕ) (names others : List Id) → AreGiven n names → AreGiven n others → AreGiven n (names ++ others)
given-append n [] others given more = more
given-append n (o ∷ names) others given more = (given.0, given-append n names others given.1 more)

given-reverse : (n : ℕ) (names : List Id) → AreGiven n names → AreGiven n (reverse names)
given-reverse n [] given = tt
given-reverse n (o ∷ names) given =
    rw (reverse-append (o ∷ []) names) (given-append n (reverse names) (o ∷ []) (given-reverse n names given.1) (given.0, tt))

pub given-take : (n k : ℕ) (names : List Id) → AreGiven n names → AreGiven n (take k names)
given-take n zero names given = tt
given-take n (suc k) [] given = tt
given-take n (suc k) (o ∷ names) given = (given.0, given-take n k names given.1)

-- the members among some names
among-append : (xs : List Object) (y : Object) (item : ℕ) (names : List Id) → AreGiven (length xs) names → members_among (xs ++ y ∷ []) item names ≡ members_among xs item names
among-append xs y item [] given = refl
among-append xs y item (o ∷ names) given =
    rw (get-append xs (y ∷ []) o.0 given.0, among-append xs y item names given.1) refl

among_same : (xs ys : List Object) (item : ℕ) (names : List Id) → ((o : Id) → is_member_at ys item o ≡ is_member_at xs item o) → members_among ys item names ≡ members_among xs item names
among_same xs ys item [] same = refl
among_same xs ys item (o ∷ names) same = rw (same o, among_same xs ys item names same) refl

step_gone : (k : ℕ) (o : Id) (names : List Id) (b : Bool) → o.0 ≡ k → filter (is_other k) (cond b (o ∷ names) names) ≡ filter (is_other k) names
step_gone k o names true here = rw (eq-eqb o.0 k here) refl
step_gone k o names false here = refl

step_kept : (k : ℕ) (o : Id) (names : List Id) (b : Bool) → (o.0 ≡ k → ⊥) → filter (is_other k) (cond b (o ∷ names) names) ≡ cond b (o ∷ filter (is_other k) names) (filter (is_other k) names)
step_kept k o names true apart = rw (ne_eqb o.0 k apart) refl
step_kept k o names false apart = refl

among_other : (xs ys : List Object) (item k : ℕ) (names : List Id) → ((o : Id) → o.0 ≡ k → is_member_at ys item o ≡ false) → ((o : Id) → (o.0 ≡ k → ⊥) → is_member_at ys item o ≡ is_member_at xs item o) → members_among ys item names ≡ filter (is_other k) (members_among xs item names)
among_other xs ys item k [] gone same = refl
among_other xs ys item k (o ∷ names) gone same =
    let rest = among_other xs ys item k names gone same in
    elim (cases_eq o.0 k) [
      | inl here ↦ rw (gone o here) (rest ∙ sym (step_gone k o (members_among xs item names) (is_member_at xs item o) here))
      | inr apart ↦ rw (same o apart, rest) (sym (step_kept k o (members_among xs item names) (is_member_at xs item o) apart))
    ]

among-parted : (xs : List Object) (item k : ℕ) (x : Object) (names : List Id) → slice_get xs k ≡ Some x → members_among (set xs k (parted x)) item names ≡ filter (is_other k) (members_among xs item names)
among-parted xs item k x names here =
    among_other xs (set xs k (parted x)) item k names
    (λ (o : Id) (e : o.0 ≡ k). rw (e, get-set_same xs k x (parted x) here) refl)
    (λ (o : Id) (apart : o.0 ≡ k → ⊥). ap (is_member_by item) (get-set_other xs k o.0 (parted x) apart))

still_member : (xs : List Object) (item k : ℕ) (x y : Object) (o : Id) → slice_get xs k ≡ Some x → is_member item y ≡ is_member item x → is_member_at (set xs k y) item o ≡ is_member_at xs item o
still_member xs item k x y o here same = elim (cases_eq o.0 k) [
  | inl e ↦ rw (e, get-set_same xs k x y here, here) same
  | inr apart ↦ ap (is_member_by item) (get-set_other xs k o.0 y apart)
]

-- a collection, as an object is created in it or elsewhere
shows_new : (xs : List Object) (y : Object) (item : ℕ) (kept : Kept) → is_member item y ≡ true → Shows xs item kept → Shows (xs ++ y ∷ []) item (entered kept (record { 0 = length xs }))
shows_new xs y item kept member shows =
    let here : is_member_at (xs ++ y ∷ []) item (record { 0 = length xs }) ≡ true = rw (get-seam xs y) member in
    let given = given-reverse (length xs) kept.entries shows.given in
    record {
      members = rw (members-append item 0 xs y, zero-add, member, reverse-append kept.entries (record { 0 = length xs } ∷ []), here, among-append xs y item (reverse kept.entries) given, shows.members) refl;
      counted = rw (members-append item 0 xs y, member) (omega (arith, shows.counted));
      given = given-append (length (xs ++ y ∷ [])) kept.entries (record { 0 = length xs } ∷ []) (given-more (length xs) (length (xs ++ y ∷ [])) kept.entries (omega (arith, length-append xs (y ∷ []))) shows.given) (omega (arith, length-append xs (y ∷ [])), tt);
    }

shows_other : (xs : List Object) (y : Object) (item : ℕ) (kept : Kept) → is_member item y ≡ false → Shows xs item kept → Shows (xs ++ y ∷ []) item kept
shows_other xs y item kept member shows =
    let given = given-reverse (length xs) kept.entries shows.given in
    record {
      members = rw (members-append item 0 xs y, member, among-append xs y item (reverse kept.entries) given) shows.members;
      counted = rw (members-append item 0 xs y, member) shows.counted;
      given = given-more (length xs) (length (xs ++ y ∷ [])) kept.entries (omega (arith, length-append xs (y ∷ []))) shows.given;
    }

-- a collection, as an object leaves it or another one
shows_parted : (xs : List Object) (k : ℕ) (x : Object) (item : ℕ) (kept : Kept) (live : ℕ) → slice_get xs k ≡ Some x → live + cond (is_member item x) 1 0 ≡ kept.live → Shows xs item kept → Shows (set xs k (parted x)) item (record kept { live = live })
shows_parted xs k x item kept live here left shows = record {
  members = (rw zero-add at (members-parted item 0 k xs x here)) ∙ ap (λ (names : List Id). filter (is_other k) names) shows.members ∙ sym (among-parted xs item k x (reverse kept.entries) here);
  counted = omega (arith, left, count-parted item 0 k xs x here, shows.counted);
  given = subst (λ (n : ℕ). AreGiven n kept.entries) (sym (length-set xs k (parted x))) shows.given;
}

-- a collection, as an object changes that stays in it or out of it
shows_same : (xs : List Object) (k : ℕ) (x y : Object) (item : ℕ) (kept : Kept) → slice_get xs k ≡ Some x → is_member item y ≡ is_member item x → Shows xs item kept → Shows (set xs k y) item kept
shows_same xs k x y item kept here same shows = record {
  members = members-same item 0 k xs x y here same ∙ shows.members ∙ sym (among_same xs (set xs k y) item (reverse kept.entries) (λ (o : Id). still_member xs item k x y o here same));
  counted = ap (λ (names : List Id). length names) (members-same item 0 k xs x y here same) ∙ shows.counted;
  given = subst (λ (n : ℕ). AreGiven n kept.entries) (sym (length-set xs k y)) shows.given;
}

-- What is kept fits again.

pub same_shelved : (xs : List Object) (before after : List Kept) → ((i : ℕ) → kept_at after i ≡ kept_at before i) → AreShelved xs before → AreShelved xs after
same_shelved xs before after same shelved item = subst (λ (kept : Kept). Shows xs item kept) (sym (same item)) (shelved item)

elsewhere : (i item : ℕ) (listed : Bool) → (i ≡ item → ⊥) → (listed && eqb item i) ≡ false
elsewhere i item true apart = ne_eqb item i (λ e. apart (sym e))
elsewhere i item false apart = refl

pub created_shelved : (xs : List Object) (kept : List Kept) (cell : Cell Value) (item : ℕ) → cell.home.item ≡ item → item < length kept → AreShelved xs kept → AreShelved (xs ++ new_object cell ∷ []) (set kept item (entered (kept_at kept item) (record { 0 = length xs })))
created_shelved xs kept cell item home room shelved i = elim (cases_eq i item) [
  | inl e ↦
      let member : is_member item (new_object cell) ≡ true = eq-eqb cell.home.item item home in
      rw (e, get_or-set_same kept item (entered (kept_at kept item) (record { 0 = length xs })) nothing_kept room)
      (shows_new xs (new_object cell) item (kept_at kept item) member (shelved item))
  | inr apart ↦
      let member : is_member i (new_object cell) ≡ false = ne_eqb cell.home.item i (λ (e : cell.home.item ≡ i). apart (sym e ∙ home)) in
      rw (get_or-set_other kept item i (entered (kept_at kept item) (record { 0 = length xs })) nothing_kept apart)
      (shows_other xs (new_object cell) i (kept_at kept i) member (shelved i))
]

within_kept : (kept : List Kept) (i : ℕ) → 0 < (kept_at kept i).live → i < length kept
within_kept [] i one = absurd (omega arith)
within_kept (x ∷ kept) zero one = omega arith
within_kept (x ∷ kept) (suc i) one = omega (arith, within_kept kept i one)

module _ {X : Type 0} where
  set-set : (xs : List X) (i : ℕ) (x y : X) → set (set xs i x) i y ≡ set xs i y
  set-set [] i x y = refl
  set-set (z ∷ xs) zero x y = refl
  set-set (z ∷ xs) (suc i) x y = ap (λ (l : List X). z ∷ l) (set-set xs i x y)

-- the one that an object was in has a member less, and it had one
home_parted : (xs : List Object) (kept : List Kept) (k : ℕ) (x : Object) → slice_get xs k ≡ Some x → x.listed ≡ true → AreShelved xs kept → Shows (set xs k (parted x)) x.cell.home.item (kept_at (set kept x.cell.home.item (discounted (kept_at kept x.cell.home.item))) x.cell.home.item)
home_parted xs kept k x here listed shelved =
    let item = x.cell.home.item in
    let shows : Shows xs item (kept_at kept item) = shelved item in
    let member : is_member item x ≡ true = rw listed (eq-eqb item item refl) in
    let count = rw member at (count-parted item 0 k xs x here) in
    let one : 0 < (kept_at kept item).live = omega (arith, count, shows.counted) in
    let room : item < length kept = within_kept kept item one in
    rw (get_or-set_same kept item (discounted (kept_at kept item)) nothing_kept room)
    (shows_parted xs k x item (kept_at kept item) ((kept_at kept item).live - 1) here (rw member (omega (arith, one))) shows)

other_parted : (xs : List Object) (kept : Kept) (k : ℕ) (x : Object) (i : ℕ) → slice_get xs k ≡ Some x → is_member i x ≡ false → Shows xs i kept → Shows (set xs k (parted x)) i kept
other_parted xs kept k x i here member shows = shows_parted xs k x i kept kept.live here (rw member (omega arith)) shows

left_shelved : (xs : List Object) (kept : List Kept) (k : ℕ) (x : Object) (listed : Bool) → slice_get xs k ≡ Some x → x.listed ≡ listed → AreShelved xs kept → AreShelved (set xs k (parted x)) (discounted_at (cond listed (Some x.cell.home.item) None) kept)
left_shelved xs kept k x false here e shelved i = other_parted xs (kept_at kept i) k x i here (rw e refl) (shelved i)
left_shelved xs kept k x true here e shelved i = elim (cases_eq i x.cell.home.item) [
  | inl same ↦ rw same (home_parted xs kept k x here e shelved)
  | inr apart ↦
      rw (get_or-set_other kept x.cell.home.item i (discounted (kept_at kept x.cell.home.item)) nothing_kept apart)
      (other_parted xs (kept_at kept i) k x i here (elsewhere i x.cell.home.item x.listed apart) (shelved i))
]

parted_by : (xs : List Object) (kept : List Kept) (o : Id) (found : Option Object) → object_at xs o ≡ found → AreShelved xs kept → AreShelved (changed parted found xs o) (discounted_at (listed_home found) kept)
parted_by xs kept o None here shelved = shelved
parted_by xs kept o (Some x) here shelved = left_shelved xs kept o.0 x x.listed here refl shelved

pub parted_shelved : (xs : List Object) (kept : List Kept) (o : Id) → AreShelved xs kept → AreShelved (changed parted (object_at xs o) xs o) (discounted_at (listed_home (object_at xs o)) kept)
parted_shelved xs kept o shelved = parted_by xs kept o (object_at xs o) refl shelved

-- an object changes that stays where it is
same_by : (change : Object → Object) (xs : List Object) (kept : List Kept) (o : Id) (found : Option Object) → ((x : Object) (i : ℕ) → is_member i (change x) ≡ is_member i x) → object_at xs o ≡ found → AreShelved xs kept → AreShelved (changed change found xs o) kept
same_by change xs kept o None same here shelved i = shelved i
same_by change xs kept o (Some x) same here shelved i = shows_same xs o.0 x (change x) i (kept_at kept i) here (same x i) (shelved i)

pub gone_shelved : (xs : List Object) (kept : List Kept) (o : Id) → AreShelved xs kept → AreShelved (changed gone (object_at xs o) xs o) kept
gone_shelved xs kept o shelved = same_by gone xs kept o (object_at xs o) (λ x i. refl) refl shelved

pub returned_shelved : (xs : List Object) (kept : List Kept) (o : Id) → AreShelved xs kept → AreShelved (changed returned (object_at xs o) xs o) kept
returned_shelved xs kept o shelved = same_by returned xs kept o (object_at xs o) (λ x i. refl) refl shelved

pub filled_shelved : (c : ℕ) (v : Value) (xs : List Object) (kept : List Kept) (o : Id) → AreShelved xs kept → AreShelved (changed (filled c v) (object_at xs o) xs o) kept
filled_shelved c v xs kept o shelved = same_by (filled c v) xs kept o (object_at xs o) (λ x i. refl) refl shelved

pub filled_from_shelved : (first : ℕ) (vs : List Value) (xs : List Object) (kept : List Kept) (o : Id) → AreShelved xs kept → AreShelved (changed (filled_from first vs) (object_at xs o) xs o) kept
filled_from_shelved first vs xs kept o shelved = same_by (filled_from first vs) xs kept o (object_at xs o) (λ x i. refl) refl shelved

pub part_state_shelved : (part : ℕ) (state : PartState) (xs : List Object) (kept : List Kept) (o : Id) → AreShelved xs kept → AreShelved (changed (with_part_state part state) (object_at xs o) xs o) kept
part_state_shelved part state xs kept o shelved = same_by (with_part_state part state) xs kept o (object_at xs o) (λ x i. refl) refl shelved

-- a past object is in no collection
not_listed : (gone listed out : Bool) → (gone && (not listed && not out)) ≡ true → listed ≡ false
not_listed true false out past = refl
not_listed true true out past = absurd (cc)
not_listed false listed out past = absurd (cc)

left_where_it_is : (x : Object) (i : ℕ) (past : Bool) → is_past x ≡ past → is_member i (cond past nothing_left x) ≡ is_member i x
left_where_it_is x i false is = refl
left_where_it_is x i true is = rw (not_listed (is_gone x.stage) x.listed x.out is) refl

pub forgotten_shelved : (xs : List Object) (kept : List Kept) (o : Id) → AreShelved xs kept → AreShelved (changed forgotten (object_at xs o) xs o) kept
forgotten_shelved xs kept o shelved = same_by forgotten xs kept o (object_at xs o) (λ (x : Object) (i : ℕ). left_where_it_is x i (is_past x) refl) refl shelved

-- the members alone are left of some entries
module _ (passes : Id → Bool) where
  filter_reverse_by : (o : Id) (names : List Id) (b : Bool) → passes o ≡ b → filter passes (reverse (filter passes names)) ≡ filter passes (reverse names) → filter passes (reverse (cond b (o ∷ filter passes names) (filter passes names))) ≡ filter passes (reverse (o ∷ names))
  filter_reverse_by o names true is same =
      rw (reverse-append (o ∷ []) (filter passes names), reverse-append (o ∷ []) names, filter-append passes (reverse (filter passes names)) (o ∷ []), filter-append passes (reverse names) (o ∷ []), same) refl
  filter_reverse_by o names false is same =
      rw (reverse-append (o ∷ []) names, filter-append passes (reverse names) (o ∷ []), is, append-nil (filter passes (reverse names))) same

  filter_reverse : (names : List Id) → filter passes (reverse (filter passes names)) ≡ filter passes (reverse names)
  filter_reverse [] = refl
  filter_reverse (o ∷ names) = filter_reverse_by o names (passes o) refl (filter_reverse names)

  given_by : (n : ℕ) (o : Id) (names : List Id) (b : Bool) → o.0 < n → AreGiven n names → AreGiven n (cond b (o ∷ names) names)
  given_by n o names true one others = (one, others)
  given_by n o names false one others = others

  given-filter : (n : ℕ) (names : List Id) → AreGiven n names → AreGiven n (filter passes names)
  given-filter n [] given = tt
  given-filter n (o ∷ names) given = given_by n o (filter passes names) (passes o) given.0 (given-filter n names given.1)

pub members_left : (xs : List Object) (item : ℕ) (before after : List Id) → after ≡ filter (is_member_at xs item) before → Trims xs item before after
members_left xs item before after left = record {
  members = rw left (filter_reverse (is_member_at xs item) before);
  given = λ (n : ℕ) (given : AreGiven n before). rw left (given-filter (is_member_at xs item) n before given);
}

-- entries are taken away that are no members
pub tidied_shelved : (xs : List Object) (before after : List Kept) → ((i : ℕ) → IsTidied xs i (kept_at before i) (kept_at after i)) → AreShelved xs before → AreShelved xs after
tidied_shelved xs before after tidied shelved i =
    let shows : Shows xs i (kept_at before i) = shelved i in
    let one : IsTidied xs i (kept_at before i) (kept_at after i) = tidied i in
    record {
      members = shows.members ∙ sym one.trims.members;
      counted = shows.counted ∙ sym one.live;
      given = one.trims.given (length xs) shows.given;
    }

-- to part and then to go is to finish
finished_by : (xs : List Object) (o : Id) (found : Option Object) → object_at xs o ≡ found → changed gone (object_at (changed parted found xs o) o) (changed parted found xs o) o ≡ changed finished found xs o
finished_by xs o None here = rw here refl
finished_by xs o (Some x) here = rw (get-set_same xs o.0 x (parted x) here) (set-set xs o.0 (parted x) (finished x))

pub finished_is : (xs : List Object) (o : Id) → changed gone (object_at (changed parted (object_at xs o) xs o) o) (changed parted (object_at xs o) xs o) o ≡ changed finished (object_at xs o) xs o
finished_is xs o = finished_by xs o (object_at xs o) refl

-- the members of a collection are those among its entries
pub members_are : (xs : List Object) (kept : List Kept) (item : ℕ) → AreShelved xs kept → members_of xs item ≡ members_among xs item (reverse (kept_at kept item).entries)
members_are xs kept item shelved = let shows : Shows xs item (kept_at kept item) = shelved item in shows.members

pub members_counted : (xs : List Object) (kept : List Kept) (item : ℕ) → AreShelved xs kept → (kept_at kept item).live ≡ length (map Names (members_of xs item))
members_counted xs kept item shelved =
    let shows : Shows xs item (kept_at kept item) = shelved item in
    sym (length-map (members_of xs item) Names ∙ shows.counted)

-- the same, of a list and of shelves that were made step by step
pub created_again : (xs ys : List Object) (before kept after : List Kept) (cell : Cell Value) (n : ℕ) → ys ≡ xs ++ new_object cell ∷ [] → ((i : ℕ) → kept_at kept i ≡ kept_at before i) → after ≡ set kept cell.home.item (entered (kept_at kept cell.home.item) (record { 0 = n })) → n ≡ length xs → cell.home.item < length kept → AreShelved xs before → AreShelved ys after
created_again xs ys before kept after cell n more same again count room shelved =
    rw (more, again, count) (created_shelved xs kept cell cell.home.item refl room (same_shelved xs before kept same shelved))

pub tidied_one : (xs : List Object) (before : List Kept) (item : ℕ) (one after : Kept) → item < length before → kept_at before item ≡ one → IsTidied xs item one after → (i : ℕ) → IsTidied xs i (kept_at before i) (kept_at (set before item after) i)
tidied_one xs before item one after room is tidied i = elim (cases_eq i item) [
  | inl e ↦ rw (e, get_or-set_same before item after nothing_kept room, is) tidied
  | inr apart ↦ rw (get_or-set_other before item i after nothing_kept apart) (record { trims = record { members = refl; given = λ n given. given }; live = refl })
]
