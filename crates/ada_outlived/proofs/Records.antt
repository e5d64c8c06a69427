-- What the record objects of masters need is in the collections that these masters have, and outer ones.

use Rattle.std.proofs.Common.{◌≡◌, ℕ, true, false, List, [], ◌∷◌, ◌++◌, Option, arith, refl}
use Rattle.ada_program.specs.ProgramForm.{TypeForm}
use Rattle.ada_program.specs.WellFormed.{reached_components}
use Rattle.ada_program.specs.Nested.{are_open}
use Rattle.ada_meaning.specs.State.{Owned, declared, collection, record_object, storage_pool, Item, Master}
use Rattle.ada_meaning.specs.Step.{older, owning, shorter}
use Rattle.ada_scopes.specs.Scopes.{is_declared_object}
use Rattle.ada_scopes.proofs.Counts.{Within, open_within, opened_by, opened, scopes, all_of}
use Rattle.ada_scopes.proofs.Layers.{Bare, Layered, AllLayered}
use Rattle.ada_scopes.proofs.Control.{RecordNeeds, RecordsNeed}

-- What a master's record objects need is open, in that master or in an outer one.
abbrev pub NeedNow : List TypeForm → List Master → Type 0
NeedNow types [] = Unit {0}
NeedNow types (m ∷ ms) = RecordsNeed types (opened m.items ++ all_of (scopes ms)) m.items × NeedNow types ms

-- What a record object of this type needs is open.
abbrev pub CanOwn : List TypeForm → ℕ → List Master → Type 0
CanOwn types t ms = are_open (all_of (scopes ms)) (reached_components types t) ≡ true

-- What is open stays so where more is.
need_within : (types : List TypeForm) (us vs : List ℕ) (owned : Owned) → Within us vs → RecordNeeds types us owned → RecordNeeds types vs owned
need_within types us vs (declared x) within h = h
need_within types us vs (collection access pool) within h = h
need_within types us vs (record_object t) within h = open_within us vs (reached_components types t) within h
need_within types us vs (storage_pool declaration number) within h = h

need_more : (types : List TypeForm) (us vs : List ℕ) (is : List Item) → Within us vs → RecordsNeed types us is → RecordsNeed types vs is
need_more types us vs [] within h = h
need_more types us vs (i ∷ is) within h = (need_within types us vs i.owned within h.0, need_more types us vs is within h.1)

-- The innermost master owns one item more.
pub owns_declared : (types : List TypeForm) (number x : ℕ) (ms : List Master) → NeedNow types ms → NeedNow types (owning (record { number = number; owned = declared x }) ms)
owns_declared types number x [] h = h
owns_declared types number x (m ∷ ms) h = ((tt, h.0), h.1)

pub owns_pool : (types : List TypeForm) (number declaration pool : ℕ) (ms : List Master) → NeedNow types ms → NeedNow types (owning (record { number = number; owned = storage_pool declaration pool }) ms)
owns_pool types number declaration pool [] h = h
owns_pool types number declaration pool (m ∷ ms) h = ((tt, h.0), h.1)

pub owns_record : (types : List TypeForm) (number t : ℕ) (ms : List Master) → CanOwn types t ms → NeedNow types ms → NeedNow types (owning (record { number = number; owned = record_object t }) ms)
owns_record types number t [] can h = h
owns_record types number t (m ∷ ms) can h = ((can, h.0), h.1)

one_more : (access : ℕ) (us : List ℕ) → Within us (access ∷ us)
one_more access us t le = omega (arith, le)

pub owns_collection : (types : List TypeForm) (number access : ℕ) (pool : Option ℕ) (ms : List Master) → NeedNow types ms → NeedNow types (owning (record { number = number; owned = collection access pool }) ms)
owns_collection types number access pool [] h = h
owns_collection types number access pool (m ∷ ms) h =
    let us = opened m.items ++ all_of (scopes ms) in
    ((tt, need_more types us (access ∷ us) m.items (one_more access us) h.0), h.1)

-- It loses its newest item: where that is a collection, it owns no record object any more.
bare_need : (types : List TypeForm) (there : List ℕ) (is : List Item) → Bare is → RecordsNeed types there is
bare_need types there [] bare = tt
bare_need types there (i ∷ is) bare = (first i.owned bare.0, bare_need types there is bare.1)
  where
    first : (owned : Owned) → is_declared_object owned ≡ false → RecordNeeds types there owned
    first (declared x) none = tt
    first (collection access pool) none = tt
    first (record_object t) none = absurd (cc none)
    first (storage_pool declaration number) none = tt

need_by : (types : List TypeForm) (outer : List ℕ) (owned : Owned) (is : List Item) → (is_declared_object owned ≡ false → Bare is) → RecordsNeed types (opened_by owned (opened is) ++ outer) is → RecordsNeed types (opened is ++ outer) is
need_by types outer (declared x) is bare h = h
need_by types outer (collection access pool) is bare h = bare_need types (opened is ++ outer) is (bare refl)
need_by types outer (record_object t) is bare h = h
need_by types outer (storage_pool declaration number) is bare h = h

need_older : (types : List TypeForm) (outer : List ℕ) (is : List Item) → Layered is → RecordsNeed types (opened is ++ outer) is → RecordsNeed types (opened (older is) ++ outer) (older is)
need_older types outer [] layered h = h
need_older types outer (i ∷ is) layered h = need_by types outer i.owned is layered.0 h.1

pub needs_shorter : (types : List TypeForm) (ms : List Master) → AllLayered ms → NeedNow types ms → NeedNow types (shorter ms)
needs_shorter types [] layered h = h
needs_shorter types (m ∷ ms) layered h = (need_older types (all_of (scopes ms)) m.items layered.0 h.0, h.1)

-- It has been left.
pub needs_older : (types : List TypeForm) (ms : List Master) → NeedNow types ms → NeedNow types (older ms)
needs_older types [] h = h
needs_older types (m ∷ ms) h = h.1
