-- Heaps that are alike: what is found there, and what becomes of them.

use Rattle.std.proofs.Common.{◌≡◌, ◌≢◌, ◌⊎◌, ℕ, zero, suc, ◌+◌, Bool, true, false, List, [], ◌∷◌, ◌++◌, length, take, drop, Option, Some, None, is_some, refl, sym, ap, ◌∙◌, inl, inr, subst, arith, length-set}
use Rattle.std.specs.Prelude.{◌==◌, ◌&&◌, if◌then◌else◌, map}
use Rattle.std.specs.List.{slice_get, slice_set, slice_index_or, AllByRecursion}
use Rattle.std.proofs.lemmas.Bool.{and_parts, eqb-true}
use Rattle.std.proofs.lemmas.Bool.Decides.{eqb_tells}
use Rattle.ada_meaning.specs.declared.state.Id.{Id}
use Rattle.ada_meaning.specs.declared.state.Stage.{Stage}
use Rattle.ada_meaning.specs.declared.state.Stage.TheVariants.{Building, Existing, Gone}
use Rattle.ada_meaning.specs.declared.state.Value.{Value}
use Rattle.ada_meaning.specs.declared.state.Value.TheVariants.{Null, Names, Scalar, Part}
use Rattle.ada_meaning.specs.Heap.{PartState, Cell, Found, on_null, on_gone, on_other, finds}
use Rattle.ada_meaning.specs.Step.{if_whole, record_in}
use Rattle.ada_meaning.specs.Named.{Object, object_at, changed, existing, seen, look, lent_by, lent, all_alive, standing_by, standing, new_object, create, created, parted, finished, returned, filled, with_part, treated, on_object, store, is_member, members_from, members}
use Rattle.ada_untouched.specs.Alike.{ValuesAlike, UnlessGhost, ObjectsAlike, FoundAlike, HeapsAlike}
use Rattle.ada_untouched.specs.Untouched.{hides, IsInSight, HousesNoGhost}

-- Lists.

-- Of lists that are as long, each component is in both or in none.
pub both_there : {X : Type 0} (xs ys : List X) (i : ℕ) → length xs ≡ length ys → is_some (slice_get xs i) ≡ is_some (slice_get ys i)
both_there [] [] i e = refl
both_there [] (y ∷ ys) i e = absurd (omega (arith, e))
both_there (x ∷ xs) [] i e = absurd (omega (arith, e))
both_there (x ∷ xs) (y ∷ ys) zero e = refl
both_there (x ∷ xs) (y ∷ ys) (suc i) e = both_there xs ys i (omega (arith, e))

-- What is in both, or in none.
pub there_or_not : {X : Type 0} (P : Option X → Option X → Type 0) → P None None → ((x y : X) → P (Some x) (Some y)) → (a b : Option X) → is_some a ≡ is_some b → P a b
there_or_not P n s None None e = n
there_or_not P n s None (Some y) e = absurd (cc)
there_or_not P n s (Some x) None e = absurd (cc)
there_or_not P n s (Some x) (Some y) e = s x y

drop_length : {X : Type 0} (n : ℕ) (xs ys : List X) → length xs ≡ length ys → length (drop n xs) ≡ length (drop n ys)
drop_length zero xs ys e = e
drop_length (suc n) [] [] e = refl
drop_length (suc n) [] (y ∷ ys) e = absurd (omega (arith, e))
drop_length (suc n) (x ∷ xs) [] e = absurd (omega (arith, e))
drop_length (suc n) (x ∷ xs) (y ∷ ys) e = drop_length n xs ys (omega (arith, e))

take_length : {X : Type 0} (n : ℕ) (xs ys : List X) → length xs ≡ length ys → length (take n xs) ≡ length (take n ys)
take_length zero xs ys e = refl
take_length (suc n) [] [] e = refl
take_length (suc n) [] (y ∷ ys) e = absurd (omega (arith, e))
take_length (suc n) (x ∷ xs) [] e = absurd (omega (arith, e))
take_length (suc n) (x ∷ xs) (y ∷ ys) e = let h = take_length n xs ys (omega (arith, e)) in omega (arith, h)

whole_by : {X : Type 0} (b : Bool) (xs ys : List X) → is_some (if b then Some xs else None) ≡ is_some (if b then Some ys else None)
whole_by true xs ys = refl
whole_by false xs ys = refl

if_both_whole : {X : Type 0} (n : ℕ) (xs ys : List X) → length xs ≡ length ys → is_some (if_whole n xs) ≡ is_some (if_whole n ys)
if_both_whole n xs ys e =
    whole_by (length xs == n) xs ys ∙ ap (λ (m : ℕ). is_some (if m == n then Some ys else None)) e

-- A record lies in both, or in none.
pub record_there : (vs us : List Value) (first count : ℕ) → length vs ≡ length us → is_some (record_in vs first count) ≡ is_some (record_in us first count)
record_there vs us first count e =
    if_both_whole count (take count (drop first vs)) (take count (drop first us))
    (take_length count (drop first vs) (drop first us) (drop_length first vs us e))

-- Lists are the same that have the same elements.
pub same_lists : {X : Type 0} (xs ys : List X) → ((i : ℕ) → slice_get xs i ≡ slice_get ys i) → xs ≡ ys
same_lists [] [] each = refl
same_lists [] (y ∷ ys) each = absurd (let none = each 0 in cc none)
same_lists (x ∷ xs) [] each = absurd (let none = each 0 in cc none)
same_lists {X = X} (x ∷ xs) (y ∷ ys) each =
    let first : x ≡ y = let is = each 0 in cc is in
    subst (λ (z : X). x ∷ xs ≡ z ∷ ys) first (ap (λ (zs : List X). x ∷ zs) (same_lists xs ys (λ i. each (suc i))))

-- A component gets a value in both.
set_alike : {X : Type 0} (xs ys : List X) (c i : ℕ) (v : X) → length xs ≡ length ys → slice_get xs i ≡ slice_get ys i → slice_get (slice_set xs c v) i ≡ slice_get (slice_set ys c v) i
set_alike [] [] c i v e same = refl
set_alike [] (y ∷ ys) c i v e same = absurd (omega (arith, e))
set_alike (x ∷ xs) [] c i v e same = absurd (omega (arith, e))
set_alike (x ∷ xs) (y ∷ ys) zero zero v e same = refl
set_alike (x ∷ xs) (y ∷ ys) zero (suc i) v e same = same
set_alike (x ∷ xs) (y ∷ ys) (suc c) zero v e same = same
set_alike (x ∷ xs) (y ∷ ys) (suc c) (suc i) v e same = set_alike xs ys c i v (omega (arith, e)) same

-- The next element comes to both.
pub added : {X : Type 0} (P : Option X → Option X → Type 0) → ((a : Option X) → P a a) → (x : X) (xs ys : List X) (i : ℕ) → length xs ≡ length ys → P (slice_get xs i) (slice_get ys i) → P (slice_get (xs ++ x ∷ []) i) (slice_get (ys ++ x ∷ []) i)
added P self x [] [] i e p = self (slice_get (x ∷ []) i)
added P self x [] (y ∷ ys) i e p = absurd (omega (arith, e))
added P self x (z ∷ xs) [] i e p = absurd (omega (arith, e))
added P self x (z ∷ xs) (y ∷ ys) zero e p = p
added P self x (z ∷ xs) (y ∷ ys) (suc i) e p = added P self x xs ys i (omega (arith, e)) p

pub added_length : {X : Type 0} (x : X) (xs ys : List X) → length xs ≡ length ys → length (xs ++ x ∷ []) ≡ length (ys ++ x ∷ [])
added_length x [] [] e = refl
added_length x [] (y ∷ ys) e = absurd (omega (arith, e))
added_length x (z ∷ xs) [] e = absurd (omega (arith, e))
added_length x (z ∷ xs) (y ∷ ys) e = let h = added_length x xs ys (omega (arith, e)) in omega (arith, h)

pub set_here : {X : Type 0} (xs : List X) (i : ℕ) (x y : X) → slice_get xs i ≡ Some x → slice_get (slice_set xs i y) i ≡ Some y
set_here [] i x y is = absurd (cc)
set_here (z ∷ xs) zero x y is = refl
set_here (z ∷ xs) (suc i) x y is = set_here xs i x y is

pub set_there : {X : Type 0} (xs : List X) (i j : ℕ) (y : X) → j ≢ i → slice_get (slice_set xs i y) j ≡ slice_get xs j
set_there [] i j y ne = refl
set_there (z ∷ xs) zero zero y ne = absurd (ne refl)
set_there (z ∷ xs) zero (suc j) y ne = refl
set_there (z ∷ xs) (suc i) zero y ne = refl
set_there (z ∷ xs) (suc i) (suc j) y ne = set_there xs i j y (λ e. ne (ap suc e))

-- Values, and objects.

pub same_values : (hiding : ℕ → Bool) (vs : List Value) → ValuesAlike hiding vs vs
same_values hiding vs = record { count = refl; values = λ c e. refl }

set_values : (hiding : ℕ → Bool) (vs us : List Value) (c : ℕ) (v : Value) → ValuesAlike hiding vs us → ValuesAlike hiding (slice_set vs c v) (slice_set us c v)
set_values hiding vs us c v a = record {
  count = length-set vs c v ∙ a.count ∙ sym (length-set us c v);
  values = λ i e. set_alike vs us c i v a.count (a.values i e);
}

unless : {P Q : Type 0} (ghost : Bool) → (P → Q) → UnlessGhost ghost P → UnlessGhost ghost Q
unless true f p = tt
unless false f p = f p

same_life : {P : Type 0} (ghost : Bool) → P → UnlessGhost ghost P
same_life true p = tt
same_life false p = p

one_self : (hiding : ℕ → Bool) (ghost : Bool) (a : Option Object) → FoundAlike hiding ghost a a
one_self hiding ghost None = tt
one_self hiding ghost (Some x) = record { values = same_values hiding x.cell.values; cell = refl; listed = refl; life = same_life ghost refl }

-- Both objects change.
abbrev pub KeepsAlike : (Object → Object) → Type 0
KeepsAlike change = (hiding : ℕ → Bool) (ghost : Bool) (x y : Object) → ObjectsAlike hiding ghost x y → ObjectsAlike hiding ghost (change x) (change y)

pub parted_alike : KeepsAlike parted
parted_alike hiding ghost x y a = record { values = a.values; cell = a.cell; listed = refl; life = unless ghost (λ e. ap parted e) a.life }

pub finished_alike : KeepsAlike finished
finished_alike hiding ghost x y a = record { values = a.values; cell = a.cell; listed = refl; life = unless ghost (λ e. ap finished e) a.life }

pub returned_alike : KeepsAlike returned
returned_alike hiding ghost x y a = record { values = a.values; cell = a.cell; listed = a.listed; life = unless ghost (λ e. ap returned e) a.life }

pub filled_alike : (c : ℕ) (v : Value) → KeepsAlike (filled c v)
filled_alike c v hiding ghost x y a = record {
  values = set_values hiding x.cell.values y.cell.values c v a.values;
  cell = ap (λ (cell : Cell Value). record cell { values = slice_set y.cell.values c v }) a.cell;
  listed = a.listed;
  life = unless ghost (λ e. ap (λ (z : Object). record z { cell = (filled c v y).cell }) e) a.life;
}

pub treated_alike : (change : PartState → PartState) (part : ℕ) → KeepsAlike (treated change part)
treated_alike change part hiding ghost x y a = record {
  values = a.values;
  cell = ap (λ (cell : Cell Value). record cell { parts = with_part change part (slice_get cell.parts part) cell.parts }) a.cell;
  listed = a.listed;
  life = unless ghost (λ e. ap (λ (z : Object). record z { cell = (treated change part y).cell }) e) a.life;
}

-- What is found.
abbrev pub CellsAlike : (hiding : ℕ → Bool) → Found (Cell Value) → Found (Cell Value) → Type 0
CellsAlike hiding on_null g = g ≡ on_null
CellsAlike hiding on_gone g = g ≡ on_gone
CellsAlike hiding on_other g = g ≡ on_other
CellsAlike hiding (finds cell) g = (us : List Value) × (g ≡ finds (record cell { values = us })) × ValuesAlike hiding cell.values us

-- By what is found in both.
pub by_found :
    (hiding : ℕ → Bool) (P : Found (Cell Value) → Found (Cell Value) → Type 0) → P on_null on_null → P on_gone on_gone → P on_other on_other
    → ((cell : Cell Value) (us : List Value) → ValuesAlike hiding cell.values us → P (finds cell) (finds (record cell { values = us })))
    → (f g : Found (Cell Value)) → CellsAlike hiding f g → P f g
by_found hiding P null gone other found on_null g a = subst (λ (h : Found (Cell Value)). P on_null h) (sym a) null
by_found hiding P null gone other found on_gone g a = subst (λ (h : Found (Cell Value)). P on_gone h) (sym a) gone
by_found hiding P null gone other found on_other g a = subst (λ (h : Found (Cell Value)). P on_other h) (sym a) other
by_found hiding P null gone other found (finds cell) g a = subst (λ (h : Found (Cell Value)). P (finds cell) h) (sym a.1) (found cell a.0 a.2)

-- An object that is no ghost is the same but for its values.
life_of : {P : Type 0} (ghost : Bool) → ghost ≡ false → UnlessGhost ghost P → P
life_of true e p = absurd (cc)
life_of false e p = p

is_but_for_values : (hiding : ℕ → Bool) (ghost : Bool) (x y : Object) → ghost ≡ false → ObjectsAlike hiding ghost x y → y ≡ record x { cell = record (x.cell) { values = y.cell.values } }
is_but_for_values hiding ghost x y plain a = life_of ghost plain a.life ∙ ap (λ (cell : Cell Value). record x { cell = cell }) a.cell

-- Is the object of a name in the collection of an item, if there is one?
abbrev pub member_by : (item : ℕ) → Option Object → Bool
member_by item None = false
member_by item (Some x) = is_member item x

-- A member is listed, and has its home in the item.
member_there : (item : ℕ) (x : Object) → is_member item x ≡ true → (x.listed ≡ true) × (x.cell.home.item ≡ item)
member_there item x is = let both = and_parts x.listed (x.cell.home.item == item) is in (both.0, eqb-true x.cell.home.item item both.1)

-- An object and the one under its name in the other heap are both in the collection, or neither is.
both_members : (hiding : ℕ → Bool) (ghost : Bool) (item : ℕ) (x y : Object) → ObjectsAlike hiding ghost x y → is_member item y ≡ is_member item x
both_members hiding ghost item x y a =
    let home : y.cell.home.item ≡ x.cell.home.item = ap (λ (cell : Cell Value). cell.home.item) a.cell in
    rw (a.listed, home) refl

-- So it is with what is found under a name in both heaps.
member_alike : (hiding : ℕ → Bool) (ghost : Bool) (item : ℕ) (f g : Option Object) → FoundAlike hiding ghost f g → member_by item g ≡ member_by item f
member_alike hiding ghost item None None a = refl
member_alike hiding ghost item None (Some y) a = absurd a
member_alike hiding ghost item (Some x) None a = absurd a
member_alike hiding ghost item (Some x) (Some y) a = both_members hiding ghost item x y a

-- What is looked for, in whatever way, is found in both, where a test on the rest of the object decides.
module _ (hiding : ℕ → Bool) (look_at : Object → Found (Cell Value))
    (each : (x : Object) (us : List Value) → ValuesAlike hiding x.cell.values us → CellsAlike hiding (look_at x) (look_at (record x { cell = record (x.cell) { values = us } }))) where
  object_alike : (ghost : Bool) (x y : Object) → ghost ≡ false → ObjectsAlike hiding ghost x y → CellsAlike hiding (look_at x) (look_at y)
  object_alike ghost x y plain a =
      subst (λ (z : Object). CellsAlike hiding (look_at x) (look_at z)) (sym (is_but_for_values hiding ghost x y plain a)) (each x y.cell.values a.values)

stage_alike : (hiding : ℕ → Bool) (x : Object) (us : List Value) (stage : Stage) → ValuesAlike hiding x.cell.values us → CellsAlike hiding (existing x stage) (existing (record x { cell = record (x.cell) { values = us } }) stage)
stage_alike hiding x us Building a = (us, refl, a)
stage_alike hiding x us Existing a = (us, refl, a)
stage_alike hiding x us Gone a = refl

test_alike : (hiding : ℕ → Bool) (cell : Cell Value) (us : List Value) (b : Bool) → ValuesAlike hiding cell.values us → CellsAlike hiding (if b then finds cell else on_gone) (if b then finds (record cell { values = us }) else on_gone)
test_alike hiding cell us true a = (us, refl, a)
test_alike hiding cell us false a = refl

module _ (hiding : ℕ → Bool) (ghost : Bool) (plain : ghost ≡ false) where
  seen_alike : (a b : Option Object) → FoundAlike hiding ghost a b → CellsAlike hiding (seen a) (seen b)
  seen_alike None None f = refl
  seen_alike None (Some y) f = absurd f
  seen_alike (Some x) None f = absurd f
  seen_alike (Some x) (Some y) f = object_alike hiding (λ (z : Object). existing z z.stage) (λ z us v. stage_alike hiding z us z.stage v) ghost x y plain f

  lent_alike_by : (a b : Option Object) → FoundAlike hiding ghost a b → CellsAlike hiding (lent_by a) (lent_by b)
  lent_alike_by None None f = refl
  lent_alike_by None (Some y) f = absurd f
  lent_alike_by (Some x) None f = absurd f
  lent_alike_by (Some x) (Some y) f = object_alike hiding (λ (z : Object). if z.out then finds z.cell else on_gone) (λ z us v. test_alike hiding z.cell us z.out v) ghost x y plain f

  standing_alike_by : (a b : Option Object) → FoundAlike hiding ghost a b → CellsAlike hiding (standing_by a) (standing_by b)
  standing_alike_by None None f = refl
  standing_alike_by None (Some y) f = absurd f
  standing_alike_by (Some x) None f = absurd f
  standing_alike_by (Some x) (Some y) f =
      object_alike hiding (λ (z : Object). if z.listed && all_alive z.cell.parts then finds z.cell else on_gone)
      (λ z us v. test_alike hiding z.cell us (z.listed && all_alive z.cell.parts) v) ghost x y plain f

-- Whether a name is this one.
pub one_or_other : (p o : Id) → (p ≡ o) ⊎ (p.0 ≢ o.0)
one_or_other p o = elim (eqb_tells p.0 o.0) [ inl h ↦ inl (ap (λ (i : ℕ). record { 0 = i }) h.1) | inr h ↦ inr h.1 ]

-- As many objects are there as before, where one changes.
pub on_length : (change : Object → Object) (h : List Object) (v : Value) → length (on_object change h v) ≡ length h
on_length change h Null = refl
on_length change h (Names o) = changed_length (object_at h o)
  where
    changed_length : (f : Option Object) → length (changed change f h o) ≡ length h
    changed_length None = refl
    changed_length (Some x) = length-set h o.0 (change x)
on_length change h (Scalar v) = refl
on_length change h (Part o place) = refl

-- An object changes in two heaps of as many objects: what holds of the objects of each name does so again.
module _ (P : Id → Option Object → Option Object → Type 0) (change : Object → Object)
    (keeps : (o : Id) (x y : Object) → P o (Some x) (Some y) → P o (Some (change x)) (Some (change y)))
    (h k : List Object) (count : length h ≡ length k) (objects : (o : Id) → P o (object_at h o) (object_at k o)) where
  at_name : (o : Id) (x y : Object) → object_at h o ≡ Some x → object_at k o ≡ Some y → P o (Some x) (Some y) → (p : Id) → P p (slice_get (slice_set h o.0 (change x)) p.0) (slice_get (slice_set k o.0 (change y)) p.0)
  at_name o x y there there_too so p = elim (one_or_other p o) as (λ w. P p (slice_get (slice_set h o.0 (change x)) p.0) (slice_get (slice_set k o.0 (change y)) p.0)) [
    | inl e ↦ subst (λ (q : Id). P q (slice_get (slice_set h o.0 (change x)) q.0) (slice_get (slice_set k o.0 (change y)) q.0)) (sym e)
        (subst (λ (f : Option Object). P o f (slice_get (slice_set k o.0 (change y)) o.0)) (sym (set_here h o.0 x (change x) there))
        (subst (λ (f : Option Object). P o (Some (change x)) f) (sym (set_here k o.0 y (change y) there_too)) (keeps o x y so)))
    | inr ne ↦ subst (λ (f : Option Object). P p f (slice_get (slice_set k o.0 (change y)) p.0)) (sym (set_there h o.0 p.0 (change x) ne))
        (subst (λ (f : Option Object). P p (slice_get h p.0) f) (sym (set_there k o.0 p.0 (change y) ne)) (objects p))
  ]

  by_name : (o : Id) (f g : Option Object) → object_at h o ≡ f → object_at k o ≡ g → is_some f ≡ is_some g → P o f g → (p : Id) → P p (object_at (changed change f h o) p) (object_at (changed change g k o) p)
  by_name o None None there there_too both so = objects
  by_name o None (Some y) there there_too both so = absurd (cc)
  by_name o (Some x) None there there_too both so = absurd (cc)
  by_name o (Some x) (Some y) there there_too both so = at_name o x y there there_too so

  pub on_both : (v : Value) (p : Id) → P p (object_at (on_object change h v) p) (object_at (on_object change k v) p)
  on_both Null = objects
  on_both (Names o) = by_name o (object_at h o) (object_at k o) refl refl (both_there h k o.0 count) (objects o)
  on_both (Scalar v) = objects
  on_both (Part o place) = objects

-- Collections have the same members where each object is in both or in none.
same_members_from : (item n : ℕ) (h k : List Object) → length h ≡ length k → ((i : ℕ) → member_by item (slice_get k i) ≡ member_by item (slice_get h i)) → members_from item n k ≡ members_from item n h
same_members_from item n [] [] e each = refl
same_members_from item n [] (y ∷ ys) e each = absurd (omega (arith, e))
same_members_from item n (x ∷ xs) [] e each = absurd (omega (arith, e))
same_members_from item n (x ∷ xs) (y ∷ ys) e each =
    ap (λ (b : Bool). members_from item (suc n) ys ++ (if b then record { 0 = n } ∷ [] else [])) (each 0)
    ∙ ap (λ (ids : List Id). ids ++ (if is_member item x then record { 0 = n } ∷ [] else []))
    (same_members_from item (suc n) xs ys (omega (arith, e)) (λ i. each (suc i)))

pub same_members : (item : ℕ) (h k : List Object) → length h ≡ length k → ((o : Id) → member_by item (object_at k o) ≡ member_by item (object_at h o)) → members k item ≡ members h item
same_members item h k e each = ap (λ (ids : List Id). map Names ids) (same_members_from item 0 h k e (λ i. each (record { 0 = i })))

-- Where no ghost that is listed has its home in an item, no member of its collection is a ghost.
module _ (ghosts : Id → Bool) (item : ℕ) where
  -- So it is among objects of which the first has this name.
  abbrev NoneFrom : (n : ℕ) → List Object → Type 0
  NoneFrom n xs = (place : ℕ) (x : Object) → ghosts (record { 0 = n + place }) ≡ true → slice_get xs place ≡ Some x → x.listed ≡ true → x.cell.home.item ≢ item

  -- It is so among those behind the first.
  none_later : (n : ℕ) (x : Object) (xs : List Object) → NoneFrom n (x ∷ xs) → NoneFrom (suc n) xs
  none_later n x xs none place y is there =
      let same : suc n + place ≡ n + suc place = omega arith in
      none (suc place) y (subst (λ (i : ℕ). ghosts (record { 0 = i }) ≡ true) same is) there

  -- Names of two lists may be looked for, if those of each may.
  in_both : (xs ys : List Id) → AllByRecursion (IsInSight ghosts) (map Names xs) → AllByRecursion (IsInSight ghosts) (map Names ys) → AllByRecursion (IsInSight ghosts) (map Names (xs ++ ys))
  in_both [] ys f g = g
  in_both (x ∷ xs) ys f g = (f.0, in_both xs ys f.1 g)

  -- The first object is no ghost, if it is a member.
  first_in_sight : (n : ℕ) (x : Object) (xs : List Object) → NoneFrom n (x ∷ xs) → is_member item x ≡ true → (ghost : Bool) → ghosts (record { 0 = n }) ≡ ghost → ghosts (record { 0 = n }) ≡ false
  first_in_sight n x xs none is true ghost =
      let same : n ≡ n + 0 = omega arith in
      let there = member_there item x is in
      absurd (none 0 x (subst (λ (i : ℕ). ghosts (record { 0 = i }) ≡ true) same ghost) refl there.0 there.1)
  first_in_sight n x xs none is false ghost = ghost

  -- So what the first object adds to the members may be looked for.
  own_in_sight : (n : ℕ) (x : Object) (xs : List Object) → NoneFrom n (x ∷ xs) → (is : Bool) → is_member item x ≡ is → AllByRecursion (IsInSight ghosts) (map Names (if is then record { 0 = n } ∷ [] else []))
  own_in_sight n x xs none true is = (first_in_sight n x xs none is (ghosts (record { 0 = n })) refl, tt)
  own_in_sight n x xs none false is = tt

  -- Each member among objects of which the first has this name may be looked for.
  all_in_sight : (n : ℕ) (xs : List Object) → NoneFrom n xs → AllByRecursion (IsInSight ghosts) (map Names (members_from item n xs))
  all_in_sight n [] none = tt
  all_in_sight n (x ∷ xs) none =
      in_both (members_from item (suc n) xs) (if is_member item x then record { 0 = n } ∷ [] else [])
      (all_in_sight (suc n) xs (none_later n x xs none)) (own_in_sight n x xs none (is_member item x) refl)

  -- Each member of the collection may be looked for.
  pub members_in_sight : (h : List Object) → HousesNoGhost ghosts h item → AllByRecursion (IsInSight ghosts) (members h item)
  members_in_sight h none = all_in_sight 0 h (λ place x is there. none (record { 0 = place }) x (first_of place is) there)
    where
      first_of : (place : ℕ) → ghosts (record { 0 = 0 + place }) ≡ true → ghosts (record { 0 = place }) ≡ true
      first_of place is =
          let same : 0 + place ≡ place = omega arith in
          subst (λ (i : ℕ). ghosts (record { 0 = i }) ≡ true) same is

-- Whichever of some values is picked, it may be looked for, if each of them may.
pub picked_in_sight : (ghosts : Id → Bool) (vs : List Value) → AllByRecursion (IsInSight ghosts) vs → (i : ℕ) → IsInSight ghosts (slice_index_or vs i Null)
picked_in_sight ghosts [] each i = refl
picked_in_sight ghosts (v ∷ vs) each zero = each.0
picked_in_sight ghosts (v ∷ vs) each (suc i) = picked_in_sight ghosts vs each.1 i

module _ (hidden : Id → (component : ℕ) → Bool) (ghosts : Id → Bool) (h k : List Object) (a : HeapsAlike hidden ghosts h k) where
  pub look_alike : (v : Value) → IsInSight ghosts v → CellsAlike (hides hidden v) (look h v) (look k v)
  look_alike Null plain = refl
  look_alike (Names o) plain = seen_alike (hidden o) (ghosts o) plain (object_at h o) (object_at k o) (a.objects o)
  look_alike (Scalar v) plain = refl
  look_alike (Part o place) plain = refl

  pub lent_alike : (v : Value) → IsInSight ghosts v → CellsAlike (hides hidden v) (lent h v) (lent k v)
  lent_alike Null plain = refl
  lent_alike (Names o) plain = lent_alike_by (hidden o) (ghosts o) plain (object_at h o) (object_at k o) (a.objects o)
  lent_alike (Scalar v) plain = refl
  lent_alike (Part o place) plain = refl

  pub standing_alike : (v : Value) → IsInSight ghosts v → CellsAlike (hides hidden v) (standing h v) (standing k v)
  standing_alike Null plain = refl
  standing_alike (Names o) plain = standing_alike_by (hidden o) (ghosts o) plain (object_at h o) (object_at k o) (a.objects o)
  standing_alike (Scalar v) plain = refl
  standing_alike (Part o place) plain = refl

  -- An object changes in both heaps.
  pub on_alike : (change : Object → Object) → KeepsAlike change → (v : Value) → HeapsAlike hidden ghosts (on_object change h v) (on_object change k v)
  on_alike change keeps v = record {
    count = on_length change h v ∙ a.count ∙ sym (on_length change k v);
    objects = on_both (λ o f g. FoundAlike (hidden o) (ghosts o) f g) change (λ o x y. keeps (hidden o) (ghosts o) x y) h k a.count a.objects v;
  }

  pub store_alike : (v : Value) (c : ℕ) (u : Value) → HeapsAlike hidden ghosts (store h v c u) (store k v c u)
  store_alike v c u = on_alike (filled c u) (filled_alike c u) v

  -- A new object comes to both.
  pub create_alike : (words : ℕ) (cell : Cell Value) → HeapsAlike hidden ghosts (create h words cell) (create k words cell)
  create_alike words cell = record {
    count = added_length (new_object cell) h k a.count;
    objects = λ o. added (FoundAlike (hidden o) (ghosts o)) (one_self (hidden o) (ghosts o)) (new_object cell) h k o.0 a.count (a.objects o);
  }

  pub created_alike : (words : ℕ) → created k words ≡ created h words
  created_alike words = ap (λ (n : ℕ). Names (record { 0 = n })) (sym a.count)

  -- The collection of an item has the same members.
  pub members_alike : (item : ℕ) → members k item ≡ members h item
  members_alike item = same_members item h k a.count (λ o. member_alike (hidden o) (ghosts o) item (object_at h o) (object_at k o) (a.objects o))
