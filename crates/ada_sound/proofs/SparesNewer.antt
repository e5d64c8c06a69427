-- In each state of a run the end of an object in a collection reaches none of that collection, and none of a newer one of the same master: neither frees it objects
-- there, nor does it follow values that name some (7.6.1, 13.11.2, 4.1). So where a master is left, and its newest collections go first, it reaches none that is gone.

use Rattle.std.proofs.Common.{◌≡◌, ℕ, suc, Bool, true, false, List, [], ◌∷◌, flat_map, Some, arith, refl, sym}
use Rattle.std.specs.List.{All, AllPairs, list_all}
use Rattle.std.proofs.lemmas.Bool.{and_parts}
use Rattle.std.proofs.lemmas.List.Elements.{All-head, All-tail}
use Rattle.ada_deeds.specs.Implicit.{implicit_of}
use Rattle.ada_effects.specs.Effects.{Implicit}
use Rattle.ada_program.specs.declared.program.Program.{Program}
use Rattle.ada_program.specs.ProgramForm.{ProgramForm, main_body, program_form}
use Rattle.ada_program.specs.WellFormed.{IsWellFormed, is_access}
use Rattle.ada_operations.specs.Created.{body_collections, collections_of, is_created_before}
use Rattle.ada_meaning.specs.State.{Owned, declared, collection, record_object, storage_pool, Item, Master}
use Rattle.ada_meaning.specs.Step.{in_front}
use Rattle.ada_meaning.specs.Named.{State}
use Rattle.ada_scopes.specs.Scopes.{type_collected}
use Rattle.ada_scopes.proofs.Counts.{opened_by, opened}
use Rattle.ada_created.specs.Law.{CreatedInOrder}
use Rattle.ada_created.proofs.Control.{AllBegun, split}
use Rattle.ada_created.proofs.Created.{body_fits_in, in_order, not_both}
use Rattle.ada_created.proofs.Runs.{begun_in_runs}
use Rattle.ada_created.proofs.Texts.{AllAccess, accesses}
use Rattle.ada_sound.specs.Always.{SparesNewer, SparesOwn}
use Rattle.ada_sound.proofs.Grounds.{IsReached}
use Rattle.ada_sound.proofs.SparesOwn.{reaches_own_none}

-- If both are collections, the end of an object of the older one reaches none of the newer one.
abbrev pub OwnedSpares : Implicit → (newer older : Owned) → Type 0
OwnedSpares implicit (collection u q) (collection t r) = implicit.end_reaches t u ≡ false
OwnedSpares implicit newer older = Unit {0}

-- So it is with an item and each of these, which are older.
abbrev pub ItemSpares : Implicit → (newer : Item) → (older : List Item) → Type 0
ItemSpares implicit i [] = Unit {0}
ItemSpares implicit i (j ∷ js) = OwnedSpares implicit i.owned j.owned × ItemSpares implicit i js

-- So it is with each of these items, which stand newest first: with itself, and with those behind it.
abbrev pub ItemsSpare : Implicit → List Item → Type 0
ItemsSpare implicit [] = Unit {0}
ItemsSpare implicit (i ∷ is) = OwnedSpares implicit i.owned i.owned × ItemSpares implicit i is × ItemsSpare implicit is

-- So it is with the items of each master.
abbrev pub MastersSpare : Implicit → List Master → Type 0
MastersSpare implicit [] = Unit {0}
MastersSpare implicit (m ∷ ms) = ItemsSpare implicit m.items × MastersSpare implicit ms

-- So it is in a program.
abbrev pub AllSpareNewer : Program → List Master → Type 0
AllSpareNewer program ms = MastersSpare (implicit_of (program_form program)) ms

-- What holds of each collection of a part holds of those that have been created.
front_all : (f : ℕ → Bool) (ts coming : List ℕ) → list_all f (in_front ts coming) ≡ true → (list_all f ts ≡ true) × (list_all f coming ≡ true)
front_all f [] coming all = (refl, all)
front_all f (t ∷ ts) coming all =
    let front = front_all f ts (t ∷ coming) all in
    let both = and_parts (f t) (list_all f coming) front.1 in
    (rw both.0 front.0, both.1)

-- What holds of the collections among some items holds of the first one, and of those of the others.
first_opened : (f : ℕ → Bool) (owned : Owned) (ts : List ℕ) → list_all f (opened_by owned ts) ≡ true → (t : ℕ) → type_collected owned ≡ Some t → f t ≡ true
first_opened f (declared x) ts all t is = absurd (cc is)
first_opened f (record_object u) ts all t is = absurd (cc is)
first_opened f (storage_pool declaration number) ts all t is = absurd (cc is)
first_opened f (collection access pool) ts all t is =
    let same : access ≡ t = cc is in
    rw (sym same) (and_parts (f access) (list_all f ts) all).0

others_opened : (f : ℕ → Bool) (owned : Owned) (ts : List ℕ) → list_all f (opened_by owned ts) ≡ true → list_all f ts ≡ true
others_opened f (declared x) ts all = all
others_opened f (record_object u) ts all = all
others_opened f (storage_pool declaration number) ts all = all
others_opened f (collection access pool) ts all = (and_parts (f access) (list_all f ts) all).1

-- What holds of each two of some things holds of the first one and each other one, and of each two others.
first_pairs : (R : Item → Item → Type 0) (i : Item) (is : List Item) → AllPairs R (i ∷ is) → All (R i) is
first_pairs R i is all k d lt = all 0 (suc k) d (omega arith) (omega (arith, lt))

other_pairs : (R : Item → Item → Type 0) (i : Item) (is : List Item) → AllPairs R (i ∷ is) → AllPairs R is
other_pairs R i is all j k d lt within = all (suc j) (suc k) d (omega (arith, lt)) (omega (arith, within))

module _ (program : Program) (spares_own : SparesOwn program) (spares_newer : SparesNewer program) where
  abbrev p : ProgramForm
  p = program_form program

  abbrev implicit : Implicit
  implicit = implicit_of p

  abbrev parts : List (List ℕ)
  parts = collections_of p

  -- An item is the collection of no other type than an access type.
  abbrev IsOfAccess : Owned → Type 0
  IsOfAccess owned = (t : ℕ) → type_collected owned ≡ Some t → is_access p.types t ≡ true

  -- What is not created before is not reached.
  not_reached : (t u : ℕ) → is_access p.types t ≡ true → is_created_before parts t u ≡ true → implicit.end_reaches t u ≡ false
  not_reached t u access before = by (implicit.end_reaches t u) refl
    where
      by : (reached : Bool) → implicit.end_reaches t u ≡ reached → implicit.end_reaches t u ≡ false
      by true is = absurd (not_both parts t u (spares_newer t u access is) before)
      by false is = is

  -- Of two items that are created in order, the older one spares the newer one.
  spares_later : (newer older : Owned)
      → ((t u : ℕ) → type_collected newer ≡ Some t → type_collected older ≡ Some u → is_created_before parts u t ≡ true) → IsOfAccess older
      → OwnedSpares implicit newer older
  spares_later (declared x) older ordered access = tt
  spares_later (record_object u) older ordered access = tt
  spares_later (storage_pool declaration number) older ordered access = tt
  spares_later (collection u q) (declared x) ordered access = tt
  spares_later (collection u q) (record_object t) ordered access = tt
  spares_later (collection u q) (storage_pool declaration number) ordered access = tt
  spares_later (collection u q) (collection t r) ordered access = not_reached t u (access t refl) (ordered u t refl refl)

  -- And each one spares itself.
  spares_itself : (owned : Owned) → IsOfAccess owned → OwnedSpares implicit owned owned
  spares_itself (declared x) access = tt
  spares_itself (record_object u) access = tt
  spares_itself (storage_pool declaration number) access = tt
  spares_itself (collection t q) access = reaches_own_none p spares_own t (access t refl)

  item_spares : (i : Item) (is : List Item) → All (CreatedInOrder parts i) is → AllAccess p.types (opened is) → ItemSpares implicit i is
  item_spares i [] ordered access = tt
  item_spares i (j ∷ js) ordered access = (
    spares_later i.owned j.owned (All-head (CreatedInOrder parts i) j js ordered) (first_opened (is_access p.types) j.owned (opened js) access),
    item_spares i js (All-tail (CreatedInOrder parts i) j js ordered) (others_opened (is_access p.types) j.owned (opened js) access),
  )

  items_spare : (is : List Item) → AllPairs (CreatedInOrder parts) is → AllAccess p.types (opened is) → ItemsSpare implicit is
  items_spare [] ordered access = tt
  items_spare (i ∷ is) ordered access =
      let others = others_opened (is_access p.types) i.owned (opened is) access in (
        spares_itself i.owned (first_opened (is_access p.types) i.owned (opened is) access),
        item_spares i is (first_pairs (CreatedInOrder parts) i is ordered) others,
        items_spare is (other_pairs (CreatedInOrder parts) i is ordered) others,
      )

  masters_spare : (ms : List Master) → All (λ m. AllPairs (CreatedInOrder parts) m.items) ms → AllBegun (AllAccess p.types) ms → MastersSpare implicit ms
  masters_spare [] ordered begun = tt
  masters_spare (m ∷ ms) ordered ((coming, access), rest) = (
    items_spare m.items (All-head (λ (n : Master). AllPairs (CreatedInOrder parts) n.items) m ms ordered)
        (front_all (is_access p.types) (opened m.items) coming access).0,
    masters_spare ms (All-tail (λ (n : Master). AllPairs (CreatedInOrder parts) n.items) m ms ordered) rest,
  )

-- So it is in each state that a run comes to: the collections of a master are those of access types, and created in the order of the text (7.6.1).
pub spared_where_reached : (program : Program) → IsWellFormed (program_form program) → SparesOwn program → SparesNewer program
    → (s : State) → IsReached program s → AllSpareNewer program s.masters
spared_where_reached program well own newer s reached =
    let p = program_form program in
    let each = split (AllAccess p.types) (body_collections (main_body p)) (flat_map body_collections p.bodies) (accesses p well) in
    masters_spare program own newer s.masters (in_order program well reached.0 reached.1 s reached.2)
    (begun_in_runs (AllAccess p.types) program (body_fits_in (AllAccess p.types) p.bodies each.1) each.0 reached.0 reached.1 s reached.2)
