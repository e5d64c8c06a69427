-- What the rules let through: records are copied as wholes only where none of their components is of an access type.

use Rattle.std.proofs.Common.{◌≡◌, ◌≢◌, ℕ, zero, suc, Bool, true, false, ◌||◌, List, [], ◌∷◌, ◌++◌, refl}
use Rattle.std.specs.Prelude.{Option, Some, None}
use Rattle.std.specs.List.{list_any, slice_get, slice_set}
use Rattle.ada_text.specs.declared.spot.Spot.{Spot}
use Rattle.ada_program.specs.declared.program.ComponentKind.{ComponentKind}
use Rattle.ada_program.specs.declared.program.ComponentKind.TheVariants as component
use Rattle.ada_program.specs.declared.program.TypeNo.{TypeNo}
use Rattle.ada_program.specs.Form.{PathForm, RecordPathForm, ItemForm, item_of_record, allocates, assigns_record}
use Rattle.ada_program.specs.ProgramForm.{TypeForm, VariableForm}
use Rattle.ada_program.specs.WellFormed.{record_components, reached_components, names_borrower}
use Rattle.ada_effects.specs.Effects.{record_path_raises, items_raise, initial_starts, initial_frees, assignment_frees}
use Rattle.ada_flow.specs.declared.rule.Hold.TheVariants as hold
use Rattle.ada_flow.specs.declared.rule.Region.TheVariants.{Whole}
use Rattle.ada_flow.specs.Flow.{Holds, Outcome, goes, ends_with, using_paths, passes_it, record_passes, uses_in_copy, uses_in_assignment, is_owning, owns_among, is_owning_record, declared_at, copies_to, reaches_it, named_by_item, uses_in_item, uses_in_items, uses_in_record, gathers_owners, leaves_owners, gathers_at_first, shares_it}
use Rattle.ada_flow.specs.Tracking.{no_tracks}
use Rattle.ada_sound.specs.Owners.{IsLetThrough, HasNoAccess, AssignedRecordsArePlain, DeclaredRecordsArePlain, CopiedItemsArePlain, AssignedItemsArePlain, CopiesMoveNothing, CopiesStayWhereRaised}
use Rattle.ada_sound.proofs.Invariant.{NoneBroken}
use Rattle.ada_sound.proofs.Followings.{first_kept, kept_apart}
use Rattle.ada_sound.specs.Untracked.{AdjustsNoOwners}
use Rattle.ada_sound.proofs.Untracked.{owns_nothing}
use Rattle.ada_sound.proofs.Gathered.{gathered_plain, gathered_first}
use Rattle.ada_sound.proofs.Copied.{copied_plain}
use Rattle.ada_sound.proofs.Moves.{kept_uses, ended, assigns_by, target_at, loses_through, loses_ended, loses_raised, stays_lost}

-- No component that owns is among components of which none does.
neither : (a b : Bool) → (a || b) ≡ false → (a ≡ false) × (b ≡ false)
neither true b e = absurd (cc e)
neither false b e = (refl, e)

none_owning : (components : List ComponentKind) (c : ℕ) (access : TypeNo) → list_any is_owning components ≡ false → slice_get components c ≢ Some (component.Access access)
none_owning [] c access plain is = cc is
none_owning (kind ∷ components) zero access plain is =
    let same : kind ≡ component.Access access = cc is in
    let owns : is_owning kind ≡ true = rw same refl in
    let none = (neither (is_owning kind) (list_any is_owning components) plain).0 in
    cc (owns, none)
none_owning (kind ∷ components) (suc c) access plain is =
    none_owning components c access (neither (is_owning kind) (list_any is_owning components) plain).1 is

has_no_access : (found : Option (List ComponentKind)) → owns_among found ≡ false → HasNoAccess found
has_no_access None plain components c access is at = cc is
has_no_access (Some kinds) plain components c access is at =
    let same : kinds ≡ components = cc is in
    none_owning kinds c access plain (rw same at)

-- What an assignment of a record uses, and what it comes to its end with, before aliases are lost.
record Gives (types : List TypeForm) (variables : List VariableForm) (may : ℕ → Bool) (target : RecordPathForm) (items : List ItemForm) (holds : Holds) (normal raising : Option Holds) : Type 0 where
  kept : NoneBroken holds (uses_in_assignment types variables may target items)
  ends : normal ≡ Some holds
  raises : (raised : Holds) → raising ≡ Some raised → raised ≡ holds

-- That is what operations lose aliases of.
abbrev before_losing : List TypeForm → List VariableForm → (may : ℕ → Bool) → RecordPathForm → List ItemForm → Holds → Outcome
before_losing types variables may target items holds =
    using_paths no_tracks (uses_in_assignment types variables may target items) holds (ends_with (record_path_raises target || items_raise items) holds holds)

gives_as : (types : List TypeForm) (variables : List VariableForm) (may : ℕ → Bool) (target : RecordPathForm) (items : List ItemForm) (holds : Holds) (normal raising : Option Holds) → before_losing types variables may target items holds ≡ goes normal raising → Gives types variables may target items holds normal raising
gives_as types variables may target items holds normal raising e =
    let some = record_path_raises target || items_raise items in
    let uses = kept_uses (uses_in_assignment types variables may target items) holds (ends_with some holds holds) normal raising e in
    let ends = ended some holds holds normal raising uses.1 in
    record { kept = uses.0; ends = ends.0; raises = ends.1 }

record_kept : (types : List TypeForm) → AdjustsNoOwners types → (variables : List VariableForm) (may : ℕ → Bool) (target : RecordPathForm) (items : List ItemForm) (holds : Holds) → NoneBroken holds (uses_in_assignment types variables may target items) → (is_owning_record types target.record_type ≡ false) × NoneBroken holds (uses_in_items types target.object.spot None [] items)
record_kept types none variables may target items holds kept =
    let spot = target.object.spot in
    let owning = gathers_owners types target.record_type items in
    let of_record = uses_in_record types spot target.record_type items in
    let of_copy = uses_in_copy types variables may items in
    let later = (first_kept holds (passes_it (record_passes types variables may target) target.object) (of_record ++ of_copy) kept).1 in
    let h = first_kept holds (copies_to owning spot) (uses_in_items types spot None [] items) (kept_apart holds of_record of_copy later).0 in
    (gathered_plain types none spot holds target.record_type items (copied_plain owning spot h.0) h.1, h.1)

-- A statement that is let through breaks no rule.
assigned_kept : (types : List TypeForm) → AdjustsNoOwners types → (variables : List VariableForm) (target : RecordPathForm) (items : List ItemForm) (holds : Holds) → IsLetThrough types variables (assigns_record target items) holds → (is_owning_record types target.record_type ≡ false) × NoneBroken holds (uses_in_items types target.object.spot None [] items)
assigned_kept types none variables target items holds kept =
    let may : ℕ → Bool = λ t. assignment_frees kept.0.effects.implicit t target.record_type in
    let through = loses_through variables may (before_losing types variables may target items holds) kept.2 kept.3 kept.4 in
    record_kept types none variables may target items holds (gives_as types variables may target items holds through.0 through.1 through.2).kept

-- An item that is a record.
item_plain : (types : List TypeForm) → AdjustsNoOwners types → (spot : Spot) (target : Option PathForm) (holds : Holds) (earlier : List PathForm) (items : List ItemForm) (i : ℕ) (p : RecordPathForm) → slice_get items i ≡ Some (item_of_record p) → NoneBroken holds (uses_in_items types spot target earlier items) → is_owning_record types p.record_type ≡ false
item_plain types none spot target holds earlier [] i p found kept = absurd (cc found)
item_plain types none spot target holds earlier (item ∷ items) zero p found kept =
    let same : item ≡ item_of_record p = cc found in
    let here = (kept_apart holds (uses_in_item types spot target earlier item) (uses_in_items types spot target (named_by_item item ++ earlier) items) kept).0 in
    let leaves = leaves_owners types p.record_type in
    owns_nothing types none p.record_type (copied_plain leaves spot (first_kept holds (copies_to leaves spot) (shares_it p ∷ reaches_it p.object ∷ []) (rw same at here)).0)
item_plain types none spot target holds earlier (item ∷ items) (suc i) p found kept =
    item_plain types none spot target holds (named_by_item item ++ earlier) items i p found
    (kept_apart holds (uses_in_item types spot target earlier item) (uses_in_items types spot target (named_by_item item ++ earlier) items) kept).1

pub assigned_records_are_plain : AssignedRecordsArePlain
assigned_records_are_plain types none variables target items holds kept =
    has_no_access (record_components types target.record_type) (assigned_kept types none variables target items holds kept).0

pub assigned_items_are_plain : AssignedItemsArePlain
assigned_items_are_plain types none variables target i items p holds found kept =
    has_no_access (record_components types p.record_type)
    (item_plain types none target.object.spot None holds [] items i p found (assigned_kept types none variables target items holds kept).1)

pub copied_items_are_plain : CopiedItemsArePlain
copied_items_are_plain types none variables target access i items p holds found kept =
    let all = assigns_by types variables (names_borrower variables target) kept.1 target (allocates access items) holds kept.2 kept.3 refl kept.4 in
    has_no_access (record_components types p.record_type) (item_plain types none target.spot (target_at target.selectors target) holds [] items i p found all.kept)

pub declared_records_are_plain : DeclaredRecordsArePlain
declared_records_are_plain types none variables implicit x t items holds normal raising e =
    let spot = declared_at variables x in
    let owning = gathers_at_first types t items in
    let used = uses_in_items types spot None [] items in
    let some = items_raise items || initial_starts implicit (λ e. true) t (Some items) in
    let uses_all = copies_to owning spot ∷ used in
    let after = ends_with some holds (slice_set holds x (hold.Own Whole)) in
    let through = loses_through variables (λ u. initial_frees implicit u t (Some items)) (using_paths no_tracks uses_all holds after) normal raising e in
    let uses = kept_uses uses_all holds after through.0 through.1 through.2 in
    let kept = first_kept holds (copies_to owning spot) used uses.0 in
    has_no_access (reached_components types t) (gathered_first types none spot holds t items (copied_plain owning spot kept.0) kept.1)

pub copies_move_nothing : CopiesMoveNothing
copies_move_nothing types variables around cleared target items holds after raising e x v is =
    let may : ℕ → Bool = λ t. assignment_frees around.effects.implicit t target.record_type in
    let less = loses_ended variables may (before_losing types variables may target items holds) after raising e in
    let all = gives_as types variables may target items holds (Some less.0) less.1 less.2 in
    let same : less.0 ≡ holds = cc (all.ends) in
    rw less.3 (rw same (stays_lost variables may holds x v is))

pub copies_stay_where_raised : CopiesStayWhereRaised
copies_stay_where_raised types variables around cleared target items holds raised normal e x v is =
    let may : ℕ → Bool = λ t. assignment_frees around.effects.implicit t target.record_type in
    let less = loses_raised variables may (before_losing types variables may target items holds) raised normal e in
    let all = gives_as types variables may target items holds less.1 (Some less.0) less.2 in
    let same : less.0 ≡ holds = all.raises less.0 refl in
    rw less.3 (rw same (stays_lost variables may holds x v is))
