-- The members of a collection are objects that are in it; what becomes of an object makes the heap no heavier.

use Rattle.std.proofs.Common.{◌≡◌, ℕ, zero, suc, ◌+◌, ◌<◌, ◌≤◌, Bool, true, false, ◌==◌, ◌&&◌, if◌then◌else◌, List, [], ◌∷◌, ◌++◌, length, map, Option, Some, None, arith, refl, sym, ap, ◌∙◌, subst}
use Rattle.std.specs.List.{slice_get, slice_set, slice_index_or, AllByRecursion}
use Rattle.ada_program.specs.declared.program.TypeDefinition.{TypeDefinition}
use Rattle.ada_meaning.specs.declared.state.Id.{Id}
use Rattle.ada_meaning.specs.declared.state.Value.{Value}
use Rattle.ada_meaning.specs.declared.state.Value.TheVariants.{Null, Names, Scalar, Part}
use Rattle.ada_meaning.specs.Step.{stored_from}
use Rattle.ada_meaning.specs.Heap.{PartState}
use Rattle.ada_meaning.specs.Named.{Object, named, existing, seen, look, changed, on_object, parted, finished, returned, filled, treated, store, is_member, members_from, members}
use Rattle.ada_meaning.specs.Ending.{object_weight, heap_weight, treatment_weight}

-- A value names an object that is in its collection, among objects that are numbered from `n` on.
pub record IsListed (n : ℕ) (objects : List Object) (v : Value) : Type 0 where
  pub place : ℕ
  pub object : Object
  pub named : v ≡ Names (record { 0 = n + place })
  pub there : slice_get objects place ≡ Some object
  pub listed : object.listed ≡ true

listed_later : (n : ℕ) (x : Object) (xs : List Object) (v : Value) → IsListed (suc n) xs v → IsListed n (x ∷ xs) v
listed_later n x xs v h =
    let same : suc n + h.place ≡ n + suc h.place = omega arith in
    record { place = suc h.place; object = h.object; named = h.named ∙ ap (λ (i : ℕ). Names (record { 0 = i })) same; there = h.there; listed = h.listed }

all_later : (n : ℕ) (x : Object) (xs : List Object) (vs : List Value) → AllByRecursion (IsListed (suc n) xs) vs → AllByRecursion (IsListed n (x ∷ xs)) vs
all_later n x xs [] h = tt
all_later n x xs (v ∷ vs) h = (listed_later n x xs v h.0, all_later n x xs vs h.1)

all_joined : (P : Value → Type 0) (xs ys : List Id) → AllByRecursion P (map Names xs) → AllByRecursion P (map Names ys) → AllByRecursion P (map Names (xs ++ ys))
all_joined P [] ys f g = g
all_joined P (x ∷ xs) ys f g = (f.0, all_joined P xs ys f.1 g)

own_member : (item n : ℕ) (x : Object) (xs : List Object) (is : Bool) → is_member item x ≡ is → AllByRecursion (IsListed n (x ∷ xs)) (map Names (if is then record { 0 = n } ∷ [] else []))
own_member item n x xs true h =
    let same : n ≡ n + 0 = omega arith in
    (record { place = 0; object = x; named = ap (λ (i : ℕ). Names (record { 0 = i })) same; there = refl; listed = both x.listed (x.cell.home.item == item) h }, tt)
  where
    both : (a b : Bool) → (a && b) ≡ true → a ≡ true
    both true b e = refl
    both false b e = e
own_member item n x xs false h = tt

all_listed : (item n : ℕ) (xs : List Object) → AllByRecursion (IsListed n xs) (map Names (members_from item n xs))
all_listed item n [] = tt
all_listed item n (x ∷ xs) =
    all_joined (IsListed n (x ∷ xs)) (members_from item (suc n) xs) (if is_member item x then record { 0 = n } ∷ [] else [])
    (all_later n x xs (map Names (members_from item (suc n) xs)) (all_listed item (suc n) xs))
    (own_member item n x xs (is_member item x) refl)

one_of : (P : Value → Type 0) (vs : List Value) (i : ℕ) → i < length vs → AllByRecursion P vs → P (slice_index_or vs i Null)
one_of P [] i lt h = absurd (omega arith)
one_of P (v ∷ vs) zero lt h = h.0
one_of P (v ∷ vs) (suc i) lt h = one_of P vs i (omega arith) h.1

-- Whichever member of a collection is picked, it names an object that is in it.
pub member_listed : (objects : List Object) (item : ℕ) (vs : List Value) (i : ℕ) → members objects item ≡ vs → i < length vs → IsListed 0 objects (slice_index_or vs i Null)
member_listed objects item vs i is lt = one_of (IsListed 0 objects) vs i lt (subst (λ (ws : List Value). AllByRecursion (IsListed 0 objects) ws) is (all_listed item 0 objects))

-- The name of a value that is listed among all objects, and what is found there.
pub named_so : (objects : List Object) (v : Value) (h : IsListed 0 objects v) → v ≡ Names (record { 0 = h.place })
named_so objects v h =
    let same : h.place ≡ 0 + h.place = omega arith in
    h.named ∙ sym (ap (λ (i : ℕ). Names (record { 0 = i })) same)

pub member_seen : (objects : List Object) (v : Value) (h : IsListed 0 objects v) → look objects v ≡ existing h.object h.object.stage
member_seen objects v h = ap (look objects) (named_so objects v h) ∙ ap seen h.there

-- What the heap weighs, for a program with these types.
module _ (types : List TypeDefinition) where
  -- The heap with one object more.
  pub heap_append : (xs ys : List Object) → heap_weight types (xs ++ ys) ≡ heap_weight types xs + heap_weight types ys
  heap_append [] ys = omega arith
  heap_append (x ∷ xs) ys = omega (arith, heap_append xs ys)

  -- An object that changes: the heap loses what the object loses.
  set_weight :
      (xs : List Object) (i : ℕ) (x y : Object) → slice_get xs i ≡ Some x
      → heap_weight types (slice_set xs i y) + object_weight types x ≡ heap_weight types xs + object_weight types y
  set_weight [] i x y is = absurd (cc)
  set_weight (z ∷ xs) zero x y is = let same : object_weight types z ≡ object_weight types x = cc in omega (arith, same)
  set_weight (z ∷ xs) (suc i) x y is = omega (arith, set_weight xs i x y is)

  changed_lighter :
      (change : Object → Object) (at_o : Option Object) (objects : List Object) (o : Id)
      → ((object : Object) → object_weight types (change object) ≤ object_weight types object) → slice_get objects o.0 ≡ at_o
      → heap_weight types (changed change at_o objects o) ≤ heap_weight types objects
  changed_lighter change None objects o lighter is = omega arith
  changed_lighter change (Some object) objects o lighter is = omega (arith, set_weight objects o.0 object (change object) is, lighter object)

  on_object_lighter :
      (change : Object → Object) (objects : List Object) (v : Value)
      → ((object : Object) → object_weight types (change object) ≤ object_weight types object)
      → heap_weight types (on_object change objects v) ≤ heap_weight types objects
  on_object_lighter change objects Null lighter = omega arith
  on_object_lighter change objects (Names o) lighter = changed_lighter change (slice_get objects o.0) objects o lighter refl
  on_object_lighter change objects (Scalar v) lighter = omega arith
  on_object_lighter change objects (Part o first) lighter = omega arith

  pub finished_lighter : (objects : List Object) (v : Value) → heap_weight types (on_object finished objects v) ≤ heap_weight types objects
  finished_lighter objects v = on_object_lighter finished objects v (λ object. omega arith)

  pub returned_lighter : (objects : List Object) (v : Value) → heap_weight types (on_object returned objects v) ≤ heap_weight types objects
  returned_lighter objects v = on_object_lighter returned objects v (λ object. omega arith)

  -- And one that leaves its collection.
  pub parted_lighter : (objects : List Object) (v : Value) → heap_weight types (on_object parted objects v) ≤ heap_weight types objects
  parted_lighter objects v = on_object_lighter parted objects v (λ object. omega arith)

  pub filled_lighter :
      (objects : List Object) (v : Value) (c : ℕ) (u : Value)
      → heap_weight types (on_object (filled c u) objects v) ≤ heap_weight types objects
  filled_lighter objects v c u = on_object_lighter (filled c u) objects v (λ object. omega arith)

  pub stored_lighter :
      (objects : List Object) (v : Value) (c : ℕ) (vs : List Value)
      → heap_weight types (stored_from named objects v c vs) ≤ heap_weight types objects
  stored_lighter objects v c [] = omega arith
  stored_lighter objects v c (u ∷ us) = omega (arith, filled_lighter objects v c u, stored_lighter (store objects v c u) v (c + 1) us)

  -- A controlled part of an object comes to have a value, or its value is finalized.
  pub part_lighter :
      (change : PartState → PartState) (part : ℕ) (objects : List Object) (v : Value)
      → heap_weight types (on_object (treated change part) objects v) ≤ heap_weight types objects
  part_lighter change part objects v = on_object_lighter (treated change part) objects v (λ object. omega arith)

  -- A member that is taken out of its collection makes the heap lighter by all that it weighs.
  taken_object :
      (objects : List Object) (o : Id) (object : Object) (at_o : Option Object) → slice_get objects o.0 ≡ Some object → at_o ≡ Some object
      → object.listed ≡ true
      → heap_weight types (changed parted at_o objects o) + (3 + treatment_weight types object.cell.access) ≡ heap_weight types objects
  taken_object objects o object None there is listed = absurd (cc)
  taken_object objects o object (Some x) there is listed =
      let same : x ≡ object = cc in
      let whole : object_weight types object ≡ 3 + treatment_weight types object.cell.access =
      ap (λ (b : Bool). if b then 3 + treatment_weight types object.cell.access else 0) listed in
      rw same (omega (arith, whole, set_weight objects o.0 object (parted object) there))

  pub taken_lighter :
      (objects : List Object) (v : Value) (h : IsListed 0 objects v)
      → heap_weight types (on_object parted objects v) + (3 + treatment_weight types h.object.cell.access) ≡ heap_weight types objects
  taken_lighter objects v h =
      let o : Id = record { 0 = h.place } in
      subst (λ (u : Value). heap_weight types (on_object parted objects u) + (3 + treatment_weight types h.object.cell.access) ≡ heap_weight types objects) (sym (named_so objects v h))
      (taken_object objects o h.object (slice_get objects h.place) h.there h.there h.listed)
