-- The objects that are in the collection of an item (7.6.1): each is there, and has its home there.

use Rattle.std.proofs.Common.{◌≡◌, ◌<◌, ℕ, ◌+◌, zero, suc, Bool, true, false, List, [], ◌∷◌, ◌++◌, length, map, Some, refl, subst, arith}
use Rattle.std.specs.Prelude.{◌==◌, if◌then◌else◌}
use Rattle.std.specs.List.{slice_get, slice_index_or}
use Rattle.std.proofs.lemmas.Bool.{and_parts, eqb-true}
use Rattle.ada_meaning.specs.declared.state.Id.{Id}
use Rattle.ada_meaning.specs.declared.state.Value.{Value}
use Rattle.ada_meaning.specs.declared.state.Value.TheVariants.{Null, Names}
use Rattle.ada_meaning.specs.Named.{Object, is_member, members, members_from, members_of, object_at}

-- A value names an object that is in the collection of an item.
pub record IsMember (heap : List Object) (item : ℕ) (v : Value) : Type 0 where
  pub name : Id
  pub object : Object
  pub named_so : v ≡ Names name
  pub there : object_at heap name ≡ Some object
  pub member : is_member item object ≡ true

module _ (heap : List Object) (item : ℕ) where
  -- Each of these names does.
  abbrev AreMembers : List Id → Type 0
  AreMembers [] = Unit {0}
  AreMembers (o ∷ os) = IsMember heap item (Names o) × AreMembers os

  -- So does each name of both.
  both_members : (os more : List Id) → AreMembers os → AreMembers more → AreMembers (os ++ more)
  both_members [] more are others = others
  both_members (o ∷ os) more are others = (are.0, both_members os more are.1 others)

  -- The name of an object does that is a member, if it is one.
  one_member : (n : ℕ) (x : Object) (b : Bool) → is_member item x ≡ b → slice_get heap n ≡ Some x → AreMembers (if b then record { 0 = n } ∷ [] else [])
  one_member n x true is at = (record { name = record { 0 = n }; object = x; named_so = refl; there = at; member = is }, tt)
  one_member n x false is at = tt

  -- The members among objects of which the first has this name are there.
  members_there :
      (n : ℕ) (objects : List Object) → ((i : ℕ) (x : Object) → slice_get objects i ≡ Some x → slice_get heap (n + i) ≡ Some x)
      → AreMembers (members_from item n objects)
  members_there n [] each = tt
  members_there n (x ∷ objects) each =
      let first : n + 0 ≡ n = omega arith in
      both_members (members_from item (suc n) objects) _
      (members_there (suc n) objects
      (λ i y at. let next : n + suc i ≡ suc n + i = omega arith in subst (λ (j : ℕ). slice_get heap j ≡ Some y) next (each (suc i) y at)))
      (one_member n x (is_member item x) refl (subst (λ (j : ℕ). slice_get heap j ≡ Some x) first (each 0 x refl)))

  -- The one of a number is.
  one_there : (os : List Id) (i : ℕ) → AreMembers os → i < length (map Names os) → IsMember heap item (slice_index_or (map Names os) i Null)
  one_there [] i are below = absurd (omega (arith, below))
  one_there (o ∷ os) zero are below = are.0
  one_there (o ∷ os) (suc i) are below = one_there os i are.1 (omega (arith, below))

  -- So is the member of a number.
  pub member_there : (i : ℕ) → i < length (members heap item) → IsMember heap item (slice_index_or (members heap item) i Null)
  member_there i below =
      one_there (members_of heap item) i
      (members_there 0 heap (λ j x at. let same : j ≡ 0 + j = omega arith in subst (λ (n : ℕ). slice_get heap n ≡ Some x) same at)) below

-- A member is listed there.
pub member_listed : (item : ℕ) (x : Object) → is_member item x ≡ true → x.listed ≡ true
member_listed item x member = (and_parts x.listed (x.cell.home.item == item) member).0

-- A member has its home in the item.
pub member_home : (item : ℕ) (x : Object) → is_member item x ≡ true → x.cell.home.item ≡ item
member_home item x is = eqb-true x.cell.home.item item (and_parts x.listed (x.cell.home.item == item) is).1
