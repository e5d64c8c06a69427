-- The items of a master: its objects lie above its collections and pools.

use Rattle.std.proofs.Common.{◌≡◌, true, false, List, [], ◌∷◌, arith}
use Rattle.std.specs.List.{All}
use Rattle.std.proofs.lemmas.List.Elements.{All-nil, All-cons}
use Rattle.std.proofs.lemmas.List.Kept.{AllPairs-cons}
use Rattle.ada_meaning.specs.State.{Item, Master}
use Rattle.ada_meaning.specs.Step.{owning}
use Rattle.ada_scopes.specs.Scopes.{is_declared_object, NoObjectBelowCollection, ObjectsFirst}

-- None of these items is an object.
abbrev pub Bare : List Item → Type 0
Bare [] = Unit {0}
Bare (i ∷ is) = (is_declared_object i.owned ≡ false) × Bare is

-- Behind the first of these items that is no object, none is.
abbrev pub Layered : List Item → Type 0
Layered [] = Unit {0}
Layered (i ∷ is) = (is_declared_object i.owned ≡ false → Bare is) × Layered is

-- So it is with the items of each of these masters.
abbrev pub AllLayered : List Master → Type 0
AllLayered [] = Unit {0}
AllLayered (m ∷ ms) = Layered m.items × AllLayered ms

pub bare_layered : (is : List Item) → Bare is → Layered is
bare_layered [] bare = tt
bare_layered (i ∷ is) bare = (λ none. bare.1, bare_layered is bare.1)

-- An object lies above all that its master has.
pub layered_owning : (item : Item) (ms : List Master) → is_declared_object item.owned ≡ true → AllLayered ms → AllLayered (owning item ms)
layered_owning item [] object h = tt
layered_owning item (m ∷ ms) object h = ((λ none. cc (object, none), h.0), h.1)

-- In the words of the law.
all_bare : (is : List Item) → Bare is → All (λ j. is_declared_object j.owned ≡ false) is
all_bare [] bare = All-nil (λ j. is_declared_object j.owned ≡ false)
all_bare (i ∷ is) bare = All-cons (λ j. is_declared_object j.owned ≡ false) i is bare.0 (all_bare is bare.1)

below : (i : Item) (is : List Item) → (is_declared_object i.owned ≡ false → Bare is) → All (NoObjectBelowCollection i) is
below i is bare = λ k d lt none. all_bare is (bare none) k d lt

objects_above : (is : List Item) → Layered is → ObjectsFirst is
objects_above [] h = λ a b d lt short. absurd (omega (arith, short))
objects_above (i ∷ is) h = AllPairs-cons NoObjectBelowCollection i is (below i is h.0) (objects_above is h.1)

pub all_above : (ms : List Master) → AllLayered ms → All (λ m. ObjectsFirst m.items) ms
all_above [] h = All-nil (λ m. ObjectsFirst m.items)
all_above (m ∷ ms) h = All-cons (λ m. ObjectsFirst m.items) m ms (objects_above m.items h.0) (all_above ms h.1)

-- Where the newest of these items is no object, none is.
pub bare_below : (i : Item) (is : List Item) → Layered (i ∷ is) → is_declared_object i.owned ≡ false → All (λ (j : Item). is_declared_object j.owned ≡ false) (i ∷ is)
bare_below i is layered none = all_bare (i ∷ is) (none, layered.0 none)
