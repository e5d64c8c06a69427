-- So the collections of each master are created in the order of the text, and none is newer than one whose operations use it.

use Rattle.std.proofs.Common.{◌≡◌, ◌≢◌, ℕ, zero, suc, ◌<◌, ◌==◌, Bool, true, false, ◌&&◌, ◌||◌, nat_lt, List, [], ◌∷◌, flat_map, Option, Some, None, inl, inr, arith, refl, sym, subst}
use Rattle.std.specs.List.{All, AllPairs, slice_get, slice_index_or}
use Rattle.std.proofs.lemmas.List.Elements.{All-nil, All-cons}
use Rattle.std.proofs.lemmas.List.Kept.{AllPairs-cons}
use Rattle.ada_deeds.specs.Does.{Does, does, called_does}
use Rattle.ada_deeds.specs.declared.deed.Callee.TheVariants as callee
use Rattle.ada_deeds.specs.declared.deed.Deed.{Deed}
use Rattle.ada_deeds.specs.declared.deed.Deed.TheVariants as deed
use Rattle.ada_operations.specs.Created.{collections_of, body_collections, place_among, place_of, is_created_before}
use Rattle.ada_operations.specs.Operations.{Uses, IsFirstFault}
use Rattle.ada_operations.specs.declared.rule.OperationRule.TheVariants.{FinalizeOrder}
use Rattle.ada_program.specs.declared.program.ProcedureNo.{ProcedureNo}
use Rattle.ada_program.specs.ProgramForm.{BodyForm, ProgramForm, main_body, program_form}
use Rattle.ada_meaning.specs.State.{Owned, declared, collection, record_object, storage_pool, Item, Master}
use Rattle.ada_scopes.specs.Scopes.{type_collected}
use Rattle.ada_scopes.proofs.Counts.{opened_by, opened}
use Rattle.ada_created.specs.Law.{UsesNoneOfIts, CreatedInOrder, CollectionsAreCreatedInOrder, PartUses, GoesUnused, NothingUsedGoesFirst}
use Rattle.ada_created.proofs.Control.{Each, AllBegun, split}
use Rattle.ada_created.proofs.Treatments.{BodiesFit}
use Rattle.ada_created.proofs.Runs.{begun_in_runs}
use Rattle.ada_created.proofs.Places.{InOnePart, in_all_parts, PlacesFall, places_fall, comes_first}
use Rattle.ada_created.proofs.Texts.{created_once}

module _ (parts : List (List ℕ)) where
  -- Behind a later place there is more room.
  more_room : (part own last : ℕ) (ts : List ℕ) → own < last → PlacesFall parts part own ts → PlacesFall parts part last ts
  more_room part own last [] lt h = tt
  more_room part own last (t ∷ ts) lt h = let less = h.1 in (h.0, omega (arith, lt, less), h.2, h.3)

  -- The place of an item that is a collection lies before one, and those of the older ones before it.
  own_place : (part last : ℕ) (owned : Owned) (ts : List ℕ) → PlacesFall parts part last (opened_by owned ts) → (t : ℕ) → type_collected owned ≡ Some t
      → (own : ℕ) × (own < last) × (place_among parts t ≡ Some (record { part = part; order = own })) × PlacesFall parts part own ts
  own_place part last (declared x) ts h t is = absurd (cc is)
  own_place part last (record_object u) ts h t is = absurd (cc is)
  own_place part last (storage_pool declaration number) ts h t is = absurd (cc is)
  own_place part last (collection access pool) ts h t is =
      let same : access ≡ t = cc is in
      (h.0, h.1, rw (sym same) h.2, h.3)

  older_places : (part last : ℕ) (owned : Owned) (ts : List ℕ) → PlacesFall parts part last (opened_by owned ts) → PlacesFall parts part last ts
  older_places part last (declared x) ts h = h
  older_places part last (record_object u) ts h = h
  older_places part last (storage_pool declaration number) ts h = h
  older_places part last (collection access pool) ts h = more_room part h.0 last ts h.1 h.3

  -- An item is no collection, or one with a place before one.
  abbrev LiesBefore : (part last : ℕ) → Item → Type 0
  LiesBefore part last i =
      (u : ℕ) → type_collected i.owned ≡ Some u → (own : ℕ) × (own < last) × (place_among parts u ≡ Some (record { part = part; order = own }))

  all_before : (part last : ℕ) (is : List Item) → PlacesFall parts part last (opened is) → All (LiesBefore part last) is
  all_before part last [] h = All-nil (LiesBefore part last)
  all_before part last (i ∷ is) h =
      All-cons (LiesBefore part last) i is (λ u is_u. (let found = own_place part last i.owned (opened is) h u is_u in (found.0, found.1, found.2)))
      (all_before part last is (older_places part last i.owned (opened is) h))

  -- So the items are created in order.
  items_in_order : (part last : ℕ) (is : List Item) → PlacesFall parts part last (opened is) → AllPairs (CreatedInOrder parts) is
  items_in_order part last [] h = λ i j d lt within. absurd (omega (arith, within))
  items_in_order part last (i ∷ is) h =
      AllPairs-cons (CreatedInOrder parts) i is newest_last (items_in_order part last is (older_places part last i.owned (opened is) h))
    where
      newest_last : All (CreatedInOrder parts i) is
      newest_last k d lt t u is_t is_u =
          let own = own_place part last i.owned (opened is) h t is_t in
          let other = all_before part own.0 is own.3 k d lt u is_u in
          comes_first parts part other.0 own.0 u t other.1 other.2 own.2

  -- So they are with each master.
  masters_in_order : (ms : List Master) → AllBegun (InOnePart parts) ms → All (λ m. AllPairs (CreatedInOrder parts) m.items) ms
  masters_in_order [] h = All-nil (λ m. AllPairs (CreatedInOrder parts) m.items)
  masters_in_order (m ∷ ms) ((coming, (part, order, h)), rest) =
      let falls = places_fall parts part order (opened m.items) coming h in
      All-cons (λ m. AllPairs (CreatedInOrder parts) m.items) m ms (items_in_order part falls.0 m.items falls.2) (masters_in_order ms rest)

-- The parts of a body of the program are among those of the program.
pub body_fits_in : (P : List ℕ → Type 0) (bodies : List BodyForm) → Each P (flat_map body_collections bodies) → BodiesFit P bodies
body_fits_in P [] each procedure b found = absurd (cc found)
body_fits_in P (c ∷ bodies) each zero b found =
    let same : c ≡ b = cc found in
    subst (λ (x : BodyForm). Each P (body_collections x)) same (split P (body_collections c) (flat_map body_collections bodies) each).0
body_fits_in P (c ∷ bodies) each (suc procedure) b found =
    body_fits_in P bodies (split P (body_collections c) (flat_map body_collections bodies) each).1 procedure b found

-- So it is in each run of a well-formed program.
pub in_order : CollectionsAreCreatedInOrder
in_order program well input events last run =
    let p = program_form program in
    let parts = collections_of p in
    let each = split (InOnePart parts) (body_collections (main_body p)) (flat_map body_collections p.bodies)
    (in_all_parts parts (created_once p well)) in
    masters_in_order parts last.masters
    (begun_in_runs (InOnePart parts) program (body_fits_in (InOnePart parts) p.bodies each.1) each.0 input events last run)

-- No place comes before another one and behind it.
one_way : (first second before behind : ℕ) → nat_lt first second || ((first == second) && nat_lt before behind) ≡ true
    → nat_lt second first || ((second == first) && nat_lt behind before) ≡ true → ⊥
one_way first second before behind there back = grind (arith, there, back)

-- Of two collections not each is created before the other.
pub not_both : (parts : List (List ℕ)) (t u : ℕ) → is_created_before parts u t ≡ true → is_created_before parts t u ≡ true → ⊥
not_both parts t u there back = one_way (place_of parts u).part (place_of parts t).part (place_of parts u).order (place_of parts t).order there back

module _ (p : ProgramForm) where
  -- What does a deed has a body.
  has_body : (procedure : ProcedureNo) (d : Deed) → Does p d (callee.Procedure procedure) → (b : BodyForm) × (slice_get p.bodies procedure.0 ≡ Some b)
  has_body procedure d (does of known each done) = by (slice_get p.bodies procedure.0) refl done
    where
      by : (found : Option BodyForm) → slice_get p.bodies procedure.0 ≡ found → called_does p.types known d found ≡ true
          → (b : BodyForm) × (slice_get p.bodies procedure.0 ≡ Some b)
      by None is none = absurd (cc none)
      by (Some b) is some = (b, is)

  user_has_body : (procedure : ProcedureNo) (u : ℕ) → Uses p procedure u → (b : BodyForm) × (slice_get p.bodies procedure.0 ≡ Some b)
  user_has_body procedure u (inl frees) = has_body procedure (deed.Frees (record { 0 = u })) frees
  user_has_body procedure u (inr follows) = has_body procedure (deed.Follows (record { 0 = u })) follows

  module _ (none : IsFirstFault p None) where
    -- What is used is created before.
    used_before : (t u : ℕ) → PartUses p t u → is_created_before (collections_of p) u t ≡ true
    used_before t u used = by (is_created_before (collections_of p) u t) refl
      where
        by : (before : Bool) → is_created_before (collections_of p) u t ≡ before → is_created_before (collections_of p) u t ≡ true
        by true is = is
        by false is =
            let body = user_has_body used.procedure u used.uses in
            absurd (none (body.0.start_spot, FinalizeOrder) (
              used.procedure,
              body.0,
              body.1,
              refl,
              (used.record_type, used.overrides, (u, used.uses, (t, used.whole, used.designates, used.has_part, is))),
            ))

    -- So it is not its own collection that an operation uses, ...
    its_own : (t u : ℕ) → PartUses p t u → u ≢ t
    its_own t u used same =
        let before : is_created_before (collections_of p) t t ≡ true =
        subst (λ (v : ℕ). is_created_before (collections_of p) v t ≡ true) same (used_before t u used) in
        not_both (collections_of p) t t before before

    -- ... and none that is created later.
    uses_older : (newer older : Item) → CreatedInOrder (collections_of p) newer older → GoesUnused p newer older
    uses_older newer older ordered t u is used is_newer = not_both (collections_of p) t u (used_before t u used) (ordered u t is_newer is)

    -- So it is with the items of each master.
    all_use_older : (is : List Item) → AllPairs (CreatedInOrder (collections_of p)) is → AllPairs (GoesUnused p) is
    all_use_older is ordered i j d lt within = uses_older (slice_index_or is i d) (slice_index_or is j d) (ordered i j d lt within)

    all_use_others : (is : List Item) → All (UsesNoneOfIts p) is
    all_use_others is i d lt t u is_t used = its_own t u used

    use_older_masters : (ms : List Master) → All (λ m. AllPairs (CreatedInOrder (collections_of p)) m.items) ms
        → All (λ m. All (UsesNoneOfIts p) m.items × AllPairs (GoesUnused p) m.items) ms
    use_older_masters ms ordered k d lt =
        (all_use_others (slice_index_or ms k d).items, all_use_older (slice_index_or ms k d).items (ordered k d lt))

-- So it is in each run of a well-formed program whose operations break no rule.
pub none_first : NothingUsedGoesFirst
none_first program well none input events last run =
    use_older_masters (program_form program) none last.masters (in_order program well input events last run)
