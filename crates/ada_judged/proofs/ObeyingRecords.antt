-- A record that is assigned as a whole, as it is judged.

use Rattle.std.proofs.Common.{◌≡◌, ℕ, Bool, true, List, [], ◌∷◌, ◌++◌, None, refl, sym, ap, ◌∙◌}
use Rattle.std.specs.Prelude.{◌||◌}
use Rattle.ada_program.specs.Form.{RecordPathForm, ItemForm, null_item, item_of_path, item_of_value, item_of_record}
use Rattle.ada_program.specs.ProgramForm.{TypeForm, VariableForm}
use Rattle.ada_program.specs.WellFormed.{path_access}
use Rattle.ada_effects.specs.Effects.{record_path_raises, items_raise}
use Rattle.ada_flow.specs.Tracking.{Tracks, seen, no_tracks}
use Rattle.ada_flow.specs.Flow.{Holds, hold_at, ends_with, passes_it, copied_to, gathers_owners, uses_in_items, uses_in_record, uses_in_copy, uses_in_assignment, broken_in, broken_among, is_freed, component_passes, record_passes, using_paths, gives_record}
use Rattle.ada_tracked.specs.Forms.{seen_record, seen_items}
use Rattle.ada_judged.specs.Obeying.{WayIsOrderly, ItemsAreOrderly, StandForTracked, GoesAlike}
use Rattle.ada_judged.proofs.ObeyingPaths.{sees, spot_alike, behind_alike}
use Rattle.ada_judged.proofs.ObeyingExpressions.{first_none, second_none, both_none, first_unbroken, second_unbroken, unbroken, using_alike, same_outcome}
use Rattle.ada_judged.proofs.ObeyingMoves.{to_none, items_unbroken}
use Rattle.ada_judged.proofs.ObeyingKinds.{access_alike, passes_less, either_less}
use Rattle.ada_judged.proofs.ObeyingAssignments.{passed_less, loses_alike}
use Rattle.ada_judged.proofs.ObeyingForms.{items_raise_alike}

module _ (types : List TypeForm) (variables : List VariableForm) (tracks : Tracks) (stand : StandForTracked types variables tracks) where
  -- The way to a record as it is judged follows no more values.
  way_passes_less : (may : ℕ → Bool) (p : RecordPathForm) → WayIsOrderly tracks p.object → record_passes types variables may (seen_record tracks p) ≡ true → record_passes types variables may p ≡ true
  way_passes_less may p way =
      let q = seen tracks p.object in
      either_less (component_passes types variables may q) (is_freed may (path_access types variables q)) (component_passes types variables may p.object) (is_freed may (path_access types variables p.object))
      (passes_less types variables tracks stand may p.object q (sees tracks p.object))
      (λ e. ap (is_freed may) (sym (access_alike types variables tracks stand p.object q way.1 (sees tracks p.object))) ∙ e)

  way_unbroken :
      (may : ℕ → Bool) (p : RecordPathForm) (holds : Holds) → WayIsOrderly tracks p.object → broken_in tracks holds (passes_it (record_passes types variables may p) p.object) ≡ None
      → broken_in no_tracks holds (passes_it (record_passes types variables may (seen_record tracks p)) (seen tracks p.object)) ≡ None
  way_unbroken may p holds way e =
      let q = seen tracks p.object in
      passed_less (record_passes types variables may p) (record_passes types variables may (seen_record tracks p)) (hold_at holds q.root) p.object.spot q.spot (way_passes_less may p way) e

  -- The record that is copied alone, if one is.
  copy_unbroken :
      (may : ℕ → Bool) (items : List ItemForm) (holds : Holds) → ItemsAreOrderly tracks items → broken_among tracks holds (uses_in_copy types variables may items) ≡ None
      → broken_among no_tracks holds (uses_in_copy types variables may (seen_items tracks items)) ≡ None
  copy_unbroken may [] holds g e = refl
  copy_unbroken may (null_item ∷ is) holds g e = refl
  copy_unbroken may (item_of_path path ∷ is) holds g e = refl
  copy_unbroken may (item_of_value f ∷ is) holds g e = refl
  copy_unbroken may (item_of_record p ∷ []) holds g e =
      both_none (broken_in no_tracks holds (passes_it (record_passes types variables may (seen_record tracks p)) (seen tracks p.object))) None
      (way_unbroken may p holds g.0 (first_none (broken_in tracks holds (passes_it (record_passes types variables may p) p.object)) None e)) refl
  copy_unbroken may (item_of_record p ∷ i ∷ is) holds g e = refl

  gathers_alike : (record_type : ℕ) (items : List ItemForm) → gathers_owners types record_type (seen_items tracks items) ≡ gathers_owners types record_type items
  gathers_alike t [] = refl
  gathers_alike t (null_item ∷ is) = refl
  gathers_alike t (item_of_path path ∷ is) = refl
  gathers_alike t (item_of_value e ∷ is) = refl
  gathers_alike t (item_of_record p ∷ []) = refl
  gathers_alike t (item_of_record p ∷ i ∷ is) = refl

  -- What an assignment uses.
  assignment_unbroken :
      (may : ℕ → Bool) (target : RecordPathForm) (items : List ItemForm) (holds : Holds) → WayIsOrderly tracks target.object → ItemsAreOrderly tracks items
      → broken_among tracks holds (uses_in_assignment types variables may target items) ≡ None
      → broken_among no_tracks holds (uses_in_assignment types variables may (seen_record tracks target) (seen_items tracks items)) ≡ None
  assignment_unbroken may target items holds way g e =
      let q = seen tracks target.object in
      let filled = uses_in_record types target.object.spot target.record_type items in
      let copied = uses_in_copy types variables may items in
      let judged = uses_in_copy types variables may (seen_items tracks items) in
      let reach = broken_in tracks holds (passes_it (record_passes types variables may target) target.object) in
      let more = second_none reach (broken_among tracks holds (filled ++ copied)) e in
      let front = first_unbroken tracks holds filled copied more in
      let owning = gathers_owners types target.record_type items in
      let used = broken_among tracks holds (uses_in_items types target.object.spot None [] items) in
      let copy = copied_to owning target.object.spot in
      let other = broken_among no_tracks holds (uses_in_items types q.spot None [] (seen_items tracks items)) in
      let same : copied_to (gathers_owners types target.record_type (seen_items tracks items)) q.spot ≡ copy =
      ap (λ (b : Bool). copied_to b q.spot) (gathers_alike target.record_type items) ∙ ap (copied_to owning) (spot_alike tracks target.object q (sees tracks target.object)) in
      let still : other ≡ None =
      ap (λ (s : _). broken_among no_tracks holds (uses_in_items types s None [] (seen_items tracks items))) (spot_alike tracks target.object q (sees tracks target.object))
      ∙ items_unbroken tracks types target.object.spot None None (to_none tracks) holds [] items tt g (second_none copy used front) in
      both_none (broken_in no_tracks holds (passes_it (record_passes types variables may (seen_record tracks target)) q))
      (broken_among no_tracks holds (uses_in_record types q.spot target.record_type (seen_items tracks items) ++ judged))
      (way_unbroken may target holds way (first_none reach (broken_among tracks holds (filled ++ copied)) e))
      (unbroken no_tracks holds (uses_in_record types q.spot target.record_type (seen_items tracks items)) judged
      (both_none (copied_to (gathers_owners types target.record_type (seen_items tracks items)) q.spot) other (same ∙ first_none copy used front) still)
      (copy_unbroken may items holds g (second_unbroken tracks holds filled copied more)))

  pub gives_record_alike :
      (may : ℕ → Bool) (target : RecordPathForm) (items : List ItemForm) (holds : Holds) → WayIsOrderly tracks target.object → ItemsAreOrderly tracks items
      → GoesAlike (gives_record types variables tracks may target items holds) (gives_record types variables no_tracks may (seen_record tracks target) (seen_items tracks items) holds)
  gives_record_alike may target items holds way g =
      let q = seen_record tracks target in
      let is = seen_items tracks items in
      let real = ends_with (record_path_raises target || items_raise items) holds holds in
      let judged = ends_with (record_path_raises q || items_raise is) holds holds in
      let same : real ≡ judged =
      sym (ap (λ (b : Bool). ends_with (b || items_raise is) holds holds) (behind_alike tracks target.object (seen tracks target.object) (sees tracks target.object))
      ∙ ap (λ (b : Bool). ends_with (record_path_raises target || b) holds holds) (items_raise_alike tracks items g)) in
      loses_alike variables may (using_paths tracks (uses_in_assignment types variables may target items) holds real) (using_paths no_tracks (uses_in_assignment types variables may q is) holds judged)
      (using_alike (broken_among tracks holds (uses_in_assignment types variables may target items)) (broken_among no_tracks holds (uses_in_assignment types variables may q is)) real judged
      (assignment_unbroken may target items holds way g) (λ unused. same_outcome real judged same))
