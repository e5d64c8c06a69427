-- Records that are copied, or get the values of items, where no Adjust is of a type that declares components of access types: they own nothing.

use Rattle.std.proofs.Common.{◌≡◌, ℕ, suc, Bool, true, false, ◌&&◌, not, List, [], ◌∷◌, refl, ap, subst, ◌⊎◌, inl, inr}
use Rattle.std.specs.Prelude.{◌==◌, ◌++◌, Option, Some, None, is_some}
use Rattle.std.specs.List.{slice_get, list_all, list_any}
use Rattle.std.proofs.lemmas.Bool.{and_parts, eqb-true}
use Rattle.ada_text.specs.declared.spot.Spot.{Spot}
use Rattle.ada_program.specs.Form.{PathForm, RecordPathForm, ItemForm, null_item, item_of_path, item_of_value, item_of_record, allocates}
use Rattle.ada_program.specs.declared.program.ComponentKind.{ComponentKind}
use Rattle.ada_program.specs.declared.program.ComponentKind.TheVariants as component
use Rattle.ada_program.specs.declared.program.TypeNo.{TypeNo}
use Rattle.ada_program.specs.ProgramForm.{TypeForm, ProgramForm}
use Rattle.ada_program.specs.Walks.{Walks, ends, into}
use Rattle.ada_program.specs.declared.program.Finalization.{Finalization}
use Rattle.ada_program.specs.Controlled.{number_in}
use Rattle.ada_program.specs.WellFormed.{named_in, components_reached, finalization_in, finalization_of, record_components, type_fits, components_lie}
use Rattle.ada_meaning.specs.Frame.{Evaluates}
use Rattle.ada_typed.proofs.Parts.{shown_number}
use Rattle.ada_quiet.specs.Apart.{is_bare_item}
use Rattle.ada_sound.proofs.CopiedOwners.{CopiesWell, SeesToAll}
use Rattle.ada_sound.proofs.OnlyParts.{IsControlled}
use Rattle.ada_sound.proofs.SeenOwners.{plain_seen}
use Rattle.ada_flow.specs.Flow.{Holds, is_owning, is_owning_record, owns_among, leaves_owners, gathers_owners, gathers_named, gathers_at_first, copies_to, shares_it, reaches_it, named_by_item, uses_in_item, uses_in_items}
use Rattle.ada_sound.specs.Untracked.{AdjustsNoOwners}
use Rattle.ada_sound.proofs.Untracked.{owns_nothing}
use Rattle.ada_sound.proofs.Invariant.{AdjustsFirst, AreObjects, Control, IsPlainFirst, NoneBroken, OwnsNothing, OwnNothing, owns_at_first}
use Rattle.ada_sound.proofs.Followings.{first_kept, kept_apart}
use Rattle.ada_sound.proofs.Copied.{IsCopy, copied_plain}

-- The records among these items own nothing, where flow lets them be items.
abbrev pub BareItems : List TypeForm → List ItemForm → Type 0
BareItems types items = (spot : Spot) (target : Option PathForm) (holds : Holds) → NoneBroken holds (uses_in_items types spot target [] items) → OwnNothing types items

-- An allocator with items is evaluated next only for an object for which no operation is called that touches storage (4.8, 7.6).
abbrev pub AllocatesApart : (touches : ℕ → Bool) → Control → Type 0
AllocatesApart touches k = (access : ℕ) (items : List ItemForm) (behind : Control) → k ≡ Evaluates (allocates access items) ∷ behind → touches access ≡ false

-- Record objects are of no access types; and records that are items of an allocator that is evaluated next own nothing, and no operation is called for its object
-- that touches storage.
abbrev pub AllocatesBare : ProgramForm → (touches : ℕ → Bool) → Control → Type 0
AllocatesBare p touches k =
    AreObjects p.types p.variables
    × ((access : ℕ) (items : List ItemForm) (behind : Control) → k ≡ Evaluates (allocates access items) ∷ behind
    → BareItems p.types items × (touches access ≡ false))

module _ (types : List TypeForm) (none : AdjustsNoOwners types) where
  -- A record that is copied as an item.
  item_owns : (spot : Spot) (holds : Holds) (p : RecordPathForm) (items : List ItemForm) → NoneBroken holds (uses_in_items types spot None [] (item_of_record p ∷ items)) → is_owning_record types p.record_type ≡ false
  item_owns spot holds p items kept =
      let leaves = leaves_owners types p.record_type in
      let here = (kept_apart holds (uses_in_item types spot None [] (item_of_record p)) (uses_in_items types spot None (named_by_item (item_of_record p) ++ []) items) kept).0 in
      owns_nothing types none p.record_type (copied_plain leaves spot (first_kept holds (copies_to leaves spot) (shares_it p ∷ reaches_it p.object ∷ []) here).0)

  -- A record whose items gather no owners owns nothing.
  pub gathered_plain : (spot : Spot) (holds : Holds) (t : ℕ) (items : List ItemForm) → gathers_owners types t items ≡ false → NoneBroken holds (uses_in_items types spot None [] items) → is_owning_record types t ≡ false
  gathered_plain spot holds t [] e kept = e
  gathered_plain spot holds t (null_item ∷ []) e kept = e
  gathered_plain spot holds t (item_of_path path ∷ []) e kept = e
  gathered_plain spot holds t (item_of_value value ∷ []) e kept = e
  gathered_plain spot holds t (i ∷ j ∷ items) e kept = several i e
    where
      several : (i : ItemForm) → gathers_owners types t (i ∷ j ∷ items) ≡ false → is_owning_record types t ≡ false
      several null_item e = e
      several (item_of_path path) e = e
      several (item_of_value value) e = e
      several (item_of_record p) e = e
  gathered_plain spot holds t (item_of_record p ∷ []) e kept = go (p.record_type == t) refl e
    where
      go : (same : Bool) → (p.record_type == t) ≡ same → (not same && is_owning_record types t) ≡ false → is_owning_record types t ≡ false
      go false is e = e
      go true is e = rw (eqb-true p.record_type t is) at (item_owns spot holds p [] kept)

  -- So it is with an object that is known by a type.
  pub gathered_first : (spot : Spot) (holds : Holds) (t : ℕ) (items : List ItemForm) → gathers_at_first types t items ≡ false → NoneBroken holds (uses_in_items types spot None [] items) → owns_at_first types t ≡ false
  gathered_first spot holds t items e kept = by (named_in (slice_get types t)) e
    where
      by : (o : Option ℕ) → gathers_named types o items ≡ false → owns_among (components_reached types o) ≡ false
      by None e = refl
      by (Some r) e = gathered_plain spot holds r items e kept

-- Components of which none is of an access type own nothing.
none_owning : (kinds : List ComponentKind) → ((c : ℕ) (access : TypeNo) → slice_get kinds c ≡ Some (component.Access access) → ⊥) → list_any is_owning kinds ≡ false
none_owning [] none = refl
none_owning (component.Integer initial ∷ kinds) none = none_owning kinds (λ c access at. none (suc c) access at)
none_owning (component.Boolean initial ∷ kinds) none = none_owning kinds (λ c access at. none (suc c) access at)
none_owning (component.Access access ∷ kinds) none = absurd (none 0 access refl)

-- No controlled record lies in a record without controlled parts.
lies_nowhere : (types : List TypeForm) (t first part r : ℕ) → Walks types t first part r → IsControlled types r → finalization_of types t ≡ None → ⊥
lies_nowhere types t _ _ _ ends c bare =
    let some : finalization_of types t ≡ Some c.finalization = ap finalization_in c.declared in
    cc (some, bare)
lies_nowhere types t _ _ r (into i first k _ m name ps components f p v at there is known walks) c bare =
    let some : finalization_of types t ≡ Some f = ap finalization_in at in
    cc (some, bare)

-- A record type without a number has no controlled parts.
none_numbered : (o : Option Finalization) → number_in o ≡ None → o ≡ None
none_numbered None none = refl
none_numbered (Some f) none = absurd (cc none)

-- So a record without controlled parts owns nothing, where Adjusts see to all that it owns.
pub bare_owns_nothing : (types : List TypeForm) (t : ℕ) → SeesToAll types t → shown_number types (Some t) ≡ None → is_owning_record types t ≡ false
bare_owns_nothing types t sees none = by (record_components types t) refl
  where
    by : (o : Option (List ComponentKind)) → record_components types t ≡ o → owns_among o ≡ false
    by None is = refl
    by (Some kinds) is = none_owning kinds (λ c access at.
        (let o = sees.owned kinds c access is at in
        lies_nowhere types t o.1 o.2 o.0 o.4 o.3 (none_numbered (finalization_of types t) none)))

-- Where copies that leave no two owners are seen to.
module _ (types : List TypeForm) (copies : CopiesWell types) where
  -- What flow lets be an item is seen to.
  copied_well : (spot : Spot) (holds : Holds) (p : RecordPathForm) (items : List ItemForm) → ((f : Finalization) → finalization_of types p.record_type ≡ Some f → f.limited ≡ false) → NoneBroken holds (uses_in_items types spot None [] (item_of_record p ∷ items)) → SeesToAll types p.record_type
  copied_well spot holds p items may kept =
      let leaves = leaves_owners types p.record_type in
      let here = (kept_apart holds (uses_in_item types spot None [] (item_of_record p)) (uses_in_items types spot None (named_by_item (item_of_record p) ++ []) items) kept).0 in
      copies p.record_type (copied_plain leaves spot (first_kept holds (copies_to leaves spot) (shares_it p ∷ reaches_it p.object ∷ []) here).0) may

  -- So is a record that gets a copy of another one.
  pub gathered_well : (spot : Spot) (holds : Holds) (t : ℕ) (items : List ItemForm) → ((f : Finalization) → finalization_of types t ≡ Some f → f.limited ≡ false) → IsCopy t items → NoneBroken holds (uses_in_items types spot None [] items) → SeesToAll types t
  gathered_well spot holds t items may (p, is, of) kept =
      let copied : NoneBroken holds (uses_in_items types spot None [] (item_of_record p ∷ [])) = rw is at kept in
      subst (SeesToAll types) of (copied_well spot holds p [] (λ f found. may f (subst (λ (u : ℕ). finalization_of types u ≡ Some f) of found)) copied)

  -- One that has no controlled parts owns nothing.
  pub gathered_bare : (spot : Spot) (holds : Holds) (t : ℕ) (items : List ItemForm) → shown_number types (Some t) ≡ None → gathers_owners types t items ≡ false → NoneBroken holds (uses_in_items types spot None [] items) → is_owning_record types t ≡ false
  gathered_bare spot holds t [] bare e kept = e
  gathered_bare spot holds t (null_item ∷ []) bare e kept = e
  gathered_bare spot holds t (item_of_path path ∷ []) bare e kept = e
  gathered_bare spot holds t (item_of_value value ∷ []) bare e kept = e
  gathered_bare spot holds t (i ∷ j ∷ items) bare e kept = several i e
    where
      several : (i : ItemForm) → gathers_owners types t (i ∷ j ∷ items) ≡ false → is_owning_record types t ≡ false
      several null_item e = e
      several (item_of_path path) e = e
      several (item_of_value value) e = e
      several (item_of_record p) e = e
  gathered_bare spot holds t (item_of_record p ∷ []) bare e kept = go (p.record_type == t) refl e
    where
      limits_none : (f : Finalization) → finalization_of types t ≡ Some f → f.limited ≡ false
      limits_none f found = let number : shown_number types (Some t) ≡ Some f.number.0 = ap number_in found in absurd (cc (number, bare))

      go : (same : Bool) → (p.record_type == t) ≡ same → (not same && is_owning_record types t) ≡ false → is_owning_record types t ≡ false
      go false is e = e
      go true is e = bare_owns_nothing types t (gathered_well spot holds t (item_of_record p ∷ []) limits_none (p, refl, eqb-true p.record_type t is) kept) bare

  -- An object that is known by a type has no controlled parts, and owns nothing; or it gets a copy of a record with some.
  pub gathered_first_well : (spot : Spot) (holds : Holds) (t : ℕ) (items : List ItemForm) → ((r : ℕ) (f : Finalization) → named_in (slice_get types t) ≡ Some r → finalization_of types r ≡ Some f → f.limited ≡ false) → ((r of : ℕ) → named_in (slice_get types t) ≡ Some r → shown_number types (Some r) ≡ Some of → IsCopy r items) → gathers_at_first types t items ≡ false → NoneBroken holds (uses_in_items types spot None [] items)
      → IsPlainFirst types t ⊎ ((r : ℕ) × AdjustsFirst types t r × IsCopy r items)
  gathered_first_well spot holds t items may whole e kept = by (named_in (slice_get types t)) (λ r f is found. may r f is found) (λ r of is numbered. whole r of is numbered) e
    where
      by : (o : Option ℕ) → ((r : ℕ) (f : Finalization) → o ≡ Some r → finalization_of types r ≡ Some f → f.limited ≡ false) → ((r of : ℕ) → o ≡ Some r → shown_number types (Some r) ≡ Some of → IsCopy r items) → gathers_named types o items ≡ false
          → ((owns_among (components_reached types o) ≡ false) × (shown_number types o ≡ None)) ⊎ ((r : ℕ) × ((o ≡ Some r) × ((of : ℕ) × (shown_number types (Some r) ≡ Some of)) × SeesToAll types r) × IsCopy r items)
      by None may' whole' e' = inl (refl, refl)
      by (Some r) may' whole' e' = go (shown_number types (Some r)) refl
        where
          go : (number : Option ℕ) → shown_number types (Some r) ≡ number
              → ((is_owning_record types r ≡ false) × (shown_number types (Some r) ≡ None)) ⊎ ((q : ℕ) × ((Some r ≡ Some q) × ((of : ℕ) × (shown_number types (Some q) ≡ Some of)) × SeesToAll types q) × IsCopy q items)
          go None bare = inl (gathered_bare spot holds r items bare e' kept, bare)
          go (Some of) numbered =
              let copy = whole' r of refl numbered in
              inr (r, (refl, (of, numbered), gathered_well spot holds r items (λ f found. may' r f refl found) copy kept), copy)

-- Where no Adjust is of a type that declares components of access types, all that is copied owns nothing.
pub copies_nothing :
    (types : List TypeForm) → list_all (type_fits types) types ≡ true → list_all (components_lie types) types ≡ true → AdjustsNoOwners types → CopiesWell types
copies_nothing types fit lie none t leaves may = plain_seen types fit lie t (owns_nothing types none t leaves)

item_bare : (types : List TypeForm) → AdjustsNoOwners types → (spot : Spot) (target : Option PathForm) (holds : Holds) (earlier : List PathForm) (i : ItemForm) → NoneBroken holds (uses_in_item types spot target earlier i) → OwnsNothing types i
item_bare types none spot target holds earlier null_item kept = tt
item_bare types none spot target holds earlier (item_of_path path) kept = tt
item_bare types none spot target holds earlier (item_of_value e) kept = tt
item_bare types none spot target holds earlier (item_of_record p) kept =
    let leaves = leaves_owners types p.record_type in
    owns_nothing types none p.record_type (copied_plain leaves spot (first_kept holds (copies_to leaves spot) (shares_it p ∷ reaches_it p.object ∷ []) kept).0)

items_bare : (types : List TypeForm) → AdjustsNoOwners types → (spot : Spot) (target : Option PathForm) (holds : Holds) (earlier : List PathForm) (items : List ItemForm) → NoneBroken holds (uses_in_items types spot target earlier items) → OwnNothing types items
items_bare types none spot target holds earlier [] kept = tt
items_bare types none spot target holds earlier (i ∷ items) kept =
    let two = kept_apart holds (uses_in_item types spot target earlier i) (uses_in_items types spot target (named_by_item i ++ earlier) items) kept in
    (item_bare types none spot target holds earlier i two.0, items_bare types none spot target holds (named_by_item i ++ earlier) items two.1)

-- Where no Adjust is of a type that declares components of access types, records that are items own nothing.
pub allocates_none : {touches : ℕ → Bool} (p : ProgramForm) (k : Control) → AdjustsNoOwners p.types
    → AreObjects p.types p.variables → AllocatesApart touches k → AllocatesBare p touches k
allocates_none p k none objects apart =
    (objects, λ access items behind is. ((λ spot target holds kept. items_bare p.types none spot target holds [] items kept), apart access items behind is))

-- A record that has no controlled parts owns nothing, where it may be copied.
record_bare : (types : List TypeForm) → CopiesWell types → (t : ℕ) → finalization_of types t ≡ None → leaves_owners types t ≡ false → is_owning_record types t ≡ false
record_bare types copies t bare leaves =
    bare_owns_nothing types t (copies t leaves (λ f found. absurd (cc (found, bare)))) (ap number_in bare)

none_said : (o : Option Finalization) → not (is_some o) ≡ true → o ≡ None
none_said None bare = refl
none_said (Some f) bare = absurd (cc bare)

-- Items among which no record with controlled parts is copied own nothing.
one_bare : (types : List TypeForm) → CopiesWell types → (spot : Spot) (target : Option PathForm) (holds : Holds) (earlier : List PathForm) (i : ItemForm) → is_bare_item types i ≡ true → NoneBroken holds (uses_in_item types spot target earlier i) → OwnsNothing types i
one_bare types copies spot target holds earlier null_item bare kept = tt
one_bare types copies spot target holds earlier (item_of_path path) bare kept = tt
one_bare types copies spot target holds earlier (item_of_value e) bare kept = tt
one_bare types copies spot target holds earlier (item_of_record p) bare kept =
    let leaves = leaves_owners types p.record_type in
    record_bare types copies p.record_type (none_said (finalization_of types p.record_type) bare)
    (copied_plain leaves spot (first_kept holds (copies_to leaves spot) (shares_it p ∷ reaches_it p.object ∷ []) kept).0)

all_bare : (types : List TypeForm) → CopiesWell types → (spot : Spot) (target : Option PathForm) (holds : Holds) (earlier : List PathForm) (items : List ItemForm) → list_all (is_bare_item types) items ≡ true → NoneBroken holds (uses_in_items types spot target earlier items) → OwnNothing types items
all_bare types copies spot target holds earlier [] bare kept = tt
all_bare types copies spot target holds earlier (i ∷ items) bare kept =
    let each = and_parts (is_bare_item types i) (list_all (is_bare_item types) items) bare in
    let two = kept_apart holds (uses_in_item types spot target earlier i) (uses_in_items types spot target (named_by_item i ++ earlier) items) kept in
    (one_bare types copies spot target holds earlier i each.0 two.0, all_bare types copies spot target holds (named_by_item i ++ earlier) items each.1 two.1)

-- So do those of an allocator that is evaluated next, where it copies no such record.
pub allocates_bare : {touches : ℕ → Bool} (p : ProgramForm) → CopiesWell p.types → (k : Control) → ((access : ℕ) (items : List ItemForm) (behind : Control) → k ≡ Evaluates (allocates access items) ∷ behind → list_all (is_bare_item p.types) items ≡ true) → AreObjects p.types p.variables → AllocatesApart touches k → AllocatesBare p touches k
allocates_bare p copies k bare objects apart =
    (objects, λ access items behind is. ((λ spot target holds kept. all_bare p.types copies spot target holds [] items (bare access items behind is) kept), apart access items behind is))
