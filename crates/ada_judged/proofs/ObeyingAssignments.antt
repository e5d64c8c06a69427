-- Assignments, Get and Free as they are judged.

use Rattle.std.proofs.Common.{◌≡◌, ℕ, Bool, true, false, List, [], ◌∷◌, ◌++◌, Option, Some, None, refl, sym, ap, ◌∙◌, subst}
use Rattle.std.specs.Prelude.{◌||◌}
use Rattle.std.specs.List.{slice_set}
use Rattle.ada_text.specs.declared.spot.Spot.{Spot}
use Rattle.ada_program.specs.Form.{PathForm, RightForm, nothing, value_of, allocates, allocates_default, computes}
use Rattle.ada_program.specs.ProgramForm.{TypeForm, VariableForm}
use Rattle.ada_program.specs.WellFormed.{path_access, is_borrower}
use Rattle.ada_effects.specs.Effects.{Implicit, path_raises}
use Rattle.ada_flow.specs.declared.rule.Hold.{Hold}
use Rattle.ada_flow.specs.declared.rule.Hold.TheVariants.{Null, Kept, Own, Alias, Lost}
use Rattle.ada_flow.specs.Tracking.{Tracks, seen, is_tracked, no_tracks}
use Rattle.ada_flow.specs.Flow.{Holds, Outcome, hold_at, ends_with, reads_it, passes_it, uses_in_right, uses_in_target, Breach, leftmost, handed_by, passed_by, broken_in, broken_among, unless_broken, moved_by_right, without_values, evaluation_raises, gives_value, gives, gives_component, gives_seen, gives_path, behind_end, freed, released, gets_path, component_passes, loses, initializes, waits_for, uses_in_start, finalizes, formal_reached, way_reached, freed_behind, released_behind, released_tracked, frees_seen, frees_path}
use Rattle.ada_tracked.specs.Forms.{seen_right}
use Rattle.ada_judged.specs.Obeying.{PathIsOrderly, RightIsOrderly, StandForTracked, GoesAlike}
use Rattle.ada_judged.proofs.ObeyingPaths.{Sees, plainly, tracked, sees, spot_alike, raises_alike, tracked_ends, variable_alike}
use Rattle.ada_judged.proofs.ObeyingExpressions.{first_none, second_none, both_none, using_alike, same_outcome, reads_alike}
use Rattle.ada_judged.proofs.ObeyingOutcomes.{within_alike}
use Rattle.ada_judged.proofs.ObeyingMoves.{to_none, to_tracked, to_component, IsCleared, right_unbroken, right_moves_alike, evaluation_alike, gives_alike}
use Rattle.ada_judged.proofs.ObeyingKinds.{access_alike, passes_less, way_less, no_borrower}

-- What is handed over and not lost is released.
released_alike :
    (variables : List VariableForm) (again : Bool) (hold : Hold) (s t : Spot) (x : ℕ) (holds : Holds)
    → GoesAlike (unless_broken (handed_by again hold s) (ends_with false holds (freed variables x holds))) (released variables x t holds hold)
released_alike variables false Null s t x holds normal raising e = e
released_alike variables false (Kept r) s t x holds normal raising e = e
released_alike variables false (Own r) s t x holds normal raising e = e
released_alike variables false (Alias r) s t x holds normal raising e = absurd (cc)
released_alike variables false Lost s t x holds normal raising e = absurd (cc)
released_alike variables true Null s t x holds normal raising e = absurd (cc)
released_alike variables true (Kept r) s t x holds normal raising e = absurd (cc)
released_alike variables true (Own r) s t x holds normal raising e = absurd (cc)
released_alike variables true (Alias r) s t x holds normal raising e = absurd (cc)
released_alike variables true Lost s t x holds normal raising e = absurd (cc)

-- Where the way is safe, so is a safer one.
freed_less : (a b : Bool) (hold : Hold) (s t : Spot) → (b ≡ true → a ≡ true) → freed_behind a hold s ≡ None → freed_behind b hold t ≡ None
freed_less true b Null s t h e = absurd (cc)
freed_less true b (Kept r) s t h e = absurd (cc)
freed_less true b (Own r) s t h e = absurd (cc)
freed_less true b (Alias r) s t h e = absurd (cc)
freed_less true b Lost s t h e = absurd (cc)
freed_less false true hold s t h e = absurd (let f = h refl in cc)
freed_less false false Null s t h e = refl
freed_less false false (Kept r) s t h e = refl
freed_less false false (Own r) s t h e = refl
freed_less false false (Alias r) s t h e = refl
freed_less false false Lost s t h e = absurd (cc)

pub passed_less : (a b : Bool) (hold : Hold) (s t : Spot) → (b ≡ true → a ≡ true) → passed_by a hold s ≡ None → passed_by b hold t ≡ None
passed_less true b Null s t h e = absurd (cc)
passed_less true b (Kept r) s t h e = absurd (cc)
passed_less true b (Own r) s t h e = absurd (cc)
passed_less true b (Alias r) s t h e = absurd (cc)
passed_less true b Lost s t h e = absurd (cc)
passed_less false true hold s t h e = absurd (let f = h refl in cc)
passed_less false false Null s t h e = refl
passed_less false false (Kept r) s t h e = refl
passed_less false false (Own r) s t h e = refl
passed_less false false (Alias r) s t h e = refl
passed_less false false Lost s t h e = absurd (cc)

-- What is lost anyhow is lost behind both.
pub loses_alike : (variables : List VariableForm) (may : ℕ → Bool) (a b : Outcome) → GoesAlike a b → GoesAlike (loses variables may a) (loses variables may b)
loses_alike variables may a b h = within_alike (loses variables may) (λ spot rule normal raising e. cc) a b h

finalizes_alike : (variables : List VariableForm) (implicit : Implicit) (access : Option ℕ) (a b : Outcome) → GoesAlike a b → GoesAlike (finalizes variables implicit access a) (finalizes variables implicit access b)
finalizes_alike variables implicit None a b h = h
finalizes_alike variables implicit (Some t) a b h = loses_alike variables (implicit.end_frees t) a b h

pub initializes_alike : (tracks : Tracks) (variables : List VariableForm) (implicit : Implicit) (right : RightForm) (a b : Outcome) → GoesAlike a b → GoesAlike (initializes variables implicit right a) (initializes variables implicit (seen_right tracks right) b)
initializes_alike tracks variables implicit nothing a b h = h
initializes_alike tracks variables implicit (value_of path) a b h = h
initializes_alike tracks variables implicit (allocates access items) a b h = h
initializes_alike tracks variables implicit (allocates_default access) a b h = loses_alike variables (implicit.start_frees access) a b h
initializes_alike tracks variables implicit (computes e) a b h = h

-- A component that is not tracked is a component as it is judged.
pub goes_on_behind : (tracks : Tracks) (path judged : PathForm) (c : ℕ) (cs : List ℕ) → Sees tracks path judged → is_tracked tracks path ≡ false → path.selectors ≡ c ∷ cs → judged.selectors ≡ [] → ⊥
goes_on_behind tracks path judged c cs (plainly e f) is sel none = let g = ap (λ (p : PathForm). p.selectors) e in cc
goes_on_behind tracks path judged c cs (tracked i d [] root at here e f) is sel none = cc
goes_on_behind tracks path judged c cs (tracked i d (b ∷ bs) root at here e f) is sel none = let g = ap (λ (p : PathForm). p.selectors) e in cc

module _ (types : List TypeForm) (variables : List VariableForm) (tracks : Tracks) (stand : StandForTracked types variables tracks) where
  -- Free.
  tracked_released :
      (implicit : Implicit) (path : PathForm) (holds : Holds) (access : Option ℕ) (ds : List ℕ) → (seen tracks path).selectors ≡ ds → is_tracked tracks path ≡ true
      → GoesAlike (released_tracked types variables tracks implicit path holds access) (frees_seen types variables no_tracks false implicit ds (seen tracks path) holds)
  tracked_released implicit path holds access [] e is =
      let p = seen tracks path in
      released_alike variables (formal_reached types variables implicit path (hold_at holds path.root) access) (hold_at holds p.root) path.spot p.spot p.root holds
  tracked_released implicit path holds access (d ∷ ds) e is = absurd (let f = tracked_ends tracks path (seen tracks path) (sees tracks path) is in cc)

  behind_released :
      (implicit : Implicit) (path : PathForm) (holds : Holds) → PathIsOrderly tracks path
      → GoesAlike (released_behind types variables tracks implicit path holds (path_access types variables path)) (released_behind types variables no_tracks implicit (seen tracks path) holds (path_access types variables (seen tracks path)))
  behind_released implicit path holds h =
      let p = seen tracks path in
      let access = path_access types variables path in
      subst (λ (a : Option ℕ). GoesAlike (released_behind types variables tracks implicit path holds access) (released_behind types variables no_tracks implicit p holds a))
      (sym (access_alike types variables tracks stand path p h.1 (sees tracks path)))
      (using_alike (freed_behind (way_reached types variables implicit path (hold_at holds path.root) access) (hold_at holds p.root) path.spot)
      (freed_behind (way_reached types variables implicit p (hold_at holds p.root) access) (hold_at holds p.root) p.spot)
      (ends_with (path_raises path) (behind_end variables access holds) (behind_end variables access holds))
      (ends_with (path_raises p) (behind_end variables access holds) (behind_end variables access holds))
      (freed_less (way_reached types variables implicit path (hold_at holds path.root) access) (way_reached types variables implicit p (hold_at holds p.root) access) (hold_at holds p.root) path.spot p.spot
      (way_less types variables tracks stand implicit path p (hold_at holds) access (sees tracks path)))
      (λ unused. same_outcome (ends_with (path_raises path) (behind_end variables access holds) (behind_end variables access holds))
      (ends_with (path_raises p) (behind_end variables access holds) (behind_end variables access holds))
      (ap (λ (b : Bool). ends_with b (behind_end variables access holds) (behind_end variables access holds)) (sym (raises_alike tracks path p h.1 (sees tracks path))))))

  frees_by :
      (implicit : Implicit) (path : PathForm) (holds : Holds) → PathIsOrderly tracks path → (b : Bool) (cs ds : List ℕ) → is_tracked tracks path ≡ b → path.selectors ≡ cs → (seen tracks path).selectors ≡ ds
      → GoesAlike (frees_seen types variables tracks b implicit cs path holds) (frees_seen types variables no_tracks false implicit ds (seen tracks path) holds)
  frees_by implicit path holds h true cs ds is sel ends = tracked_released implicit path holds (path_access types variables path) ds ends is
  frees_by implicit path holds h false [] [] is sel ends =
      same_outcome (released variables path.root path.spot holds (hold_at holds path.root)) (released variables (seen tracks path).root (seen tracks path).spot holds (hold_at holds (seen tracks path).root))
      (ap (λ (p : PathForm). released variables p.root p.spot holds (hold_at holds p.root)) (sym (variable_alike tracks path (seen tracks path) (sees tracks path) sel)))
  frees_by implicit path holds h false [] (d ∷ ds) is sel ends =
      absurd (let g = ap (λ (p : PathForm). p.selectors) (variable_alike tracks path (seen tracks path) (sees tracks path) sel) in cc)
  frees_by implicit path holds h false (c ∷ cs) [] is sel ends = absurd (goes_on_behind tracks path (seen tracks path) c cs (sees tracks path) is sel ends)
  frees_by implicit path holds h false (c ∷ cs) (d ∷ ds) is sel ends = behind_released implicit path holds h

  pub frees_alike :
      (implicit : Implicit) (path : PathForm) (holds : Holds) → PathIsOrderly tracks path
      → GoesAlike (finalizes variables implicit (path_access types variables path) (frees_path types variables tracks implicit path holds))
      (finalizes variables implicit (path_access types variables (seen tracks path)) (frees_path types variables no_tracks implicit (seen tracks path) holds))
  frees_alike implicit path holds h =
      let a = frees_path types variables tracks implicit path holds in
      let b = frees_path types variables no_tracks implicit (seen tracks path) holds in
      subst (λ (access : Option ℕ). GoesAlike (finalizes variables implicit (path_access types variables path) a) (finalizes variables implicit access b))
      (sym (access_alike types variables tracks stand path (seen tracks path) h.1 (sees tracks path)))
      (finalizes_alike variables implicit (path_access types variables path) a b
      (frees_by implicit path holds h (is_tracked tracks path) path.selectors (seen tracks path).selectors refl refl refl))

  -- Get.
  gets_by :
      (path : PathForm) (holds : Holds) → is_tracked tracks path ≡ false → (cs ds : List ℕ) → path.selectors ≡ cs → (seen tracks path).selectors ≡ ds
      → GoesAlike (gets_path tracks cs path holds) (gets_path no_tracks ds (seen tracks path) holds)
  gets_by path holds is [] [] sel ends =
      same_outcome (ends_with true holds (slice_set holds path.root Lost)) (ends_with true holds (slice_set holds (seen tracks path).root Lost))
      (ap (λ (p : PathForm). ends_with true holds (slice_set holds p.root Lost)) (sym (variable_alike tracks path (seen tracks path) (sees tracks path) sel)))
  gets_by path holds is [] (d ∷ ds) sel ends = absurd (let g = ap (λ (p : PathForm). p.selectors) (variable_alike tracks path (seen tracks path) (sees tracks path) sel) in cc)
  gets_by path holds is (c ∷ cs) [] sel ends = absurd (goes_on_behind tracks path (seen tracks path) c cs (sees tracks path) is sel ends)
  gets_by path holds is (c ∷ cs) (d ∷ ds) sel ends =
      using_alike (broken_among tracks holds (uses_in_target path)) (broken_among no_tracks holds (uses_in_target (seen tracks path))) (ends_with true holds holds) (ends_with true holds holds)
      (λ e. ap (λ (b : Option Breach). leftmost b None) (sym (reads_alike tracks holds path)) ∙ e)
      (λ unused. same_outcome (ends_with true holds holds) (ends_with true holds holds) refl)

  pub gets_alike : (path : PathForm) (holds : Holds) → is_tracked tracks path ≡ false → GoesAlike (gets_path tracks path.selectors path holds) (gets_path no_tracks (seen tracks path).selectors (seen tracks path) holds)
  gets_alike path holds is = gets_by path holds is path.selectors (seen tracks path).selectors refl refl

  -- A target gets a value.
  tracked_given :
      (cleared other : Bool) (path : PathForm) (right : RightForm) (holds : Holds) (ds : List ℕ) → RightIsOrderly tracks right → IsCleared tracks right cleared other
      → (seen tracks path).selectors ≡ ds → is_tracked tracks path ≡ true
      → GoesAlike (gives_value types tracks path.spot false cleared (Some path) (seen tracks path).root right holds)
      (gives_seen types variables no_tracks false other ds (seen tracks path) (seen_right tracks right) holds)
  tracked_given cleared other path right holds [] g h ends is =
      let p = seen tracks path in
      let real = gives_value types tracks path.spot false cleared (Some path) p.root right holds in
      subst (λ (b : Bool). GoesAlike real (gives_value types no_tracks p.spot b other None p.root (seen_right tracks right) holds)) (sym (no_borrower types variables tracks stand path p (sees tracks path) is))
      (subst (λ (s : Spot). GoesAlike real (gives_value types no_tracks s false other None p.root (seen_right tracks right) holds)) (sym (spot_alike tracks path p (sees tracks path)))
      (gives_alike tracks types path.spot false cleared other (Some path) None p.root right holds (to_tracked tracks path is) g h))
  tracked_given cleared other path right holds (d ∷ ds) g h ends is = absurd (let f = tracked_ends tracks path (seen tracks path) (sees tracks path) is in cc)

  variable_given :
      (cleared other : Bool) (path judged : PathForm) (right : RightForm) (holds : Holds) → RightIsOrderly tracks right → IsCleared tracks right cleared other → path ≡ judged
      → GoesAlike (gives types variables tracks path.spot cleared path.root right holds) (gives types variables no_tracks judged.spot other judged.root (seen_right tracks right) holds)
  variable_given cleared other path judged right holds g h e =
      subst (λ (p : PathForm). GoesAlike (gives types variables tracks path.spot cleared path.root right holds) (gives types variables no_tracks p.spot other p.root (seen_right tracks right) holds)) e
      (gives_alike tracks types path.spot (is_borrower variables path.root) cleared other None None path.root right holds (to_none tracks) g h)

  component_given :
      (cleared other : Bool) (path : PathForm) (right : RightForm) (holds : Holds) → PathIsOrderly tracks path → RightIsOrderly tracks right → IsCleared tracks right cleared other
      → GoesAlike (gives_component types tracks cleared path right holds) (gives_component types no_tracks other (seen tracks path) (seen_right tracks right) holds)
  component_given cleared other path right holds simple g h =
      let p = seen tracks path in
      let us = uses_in_right types path.spot false cleared (Some path) right in
      let vs = λ (s : Spot). uses_in_right types s false other (Some p) (seen_right tracks right) in
      let after = without_values (moved_by_right tracks false right) holds in
      let raised = path_raises p || evaluation_raises (seen_right tracks right) in
      using_alike (broken_among tracks holds (uses_in_target path ++ us)) (broken_among no_tracks holds (uses_in_target p ++ vs p.spot))
      (ends_with (path_raises path || evaluation_raises right) holds after)
      (ends_with raised holds (without_values (moved_by_right no_tracks false (seen_right tracks right)) holds))
      (λ e. both_none (broken_in no_tracks holds (reads_it p)) (broken_among no_tracks holds (vs p.spot))
      (sym (reads_alike tracks holds path) ∙ first_none (broken_in tracks holds (reads_it path)) (broken_among tracks holds us) e)
      (ap (λ (s : Spot). broken_among no_tracks holds (vs s)) (spot_alike tracks path p (sees tracks path))
      ∙ right_unbroken tracks types path.spot (Some path) (Some p) (to_component tracks path) holds false cleared other right g h
      (second_none (broken_in tracks holds (reads_it path)) (broken_among tracks holds us) e)))
      (λ unused. same_outcome (ends_with (path_raises path || evaluation_raises right) holds after)
      (ends_with raised holds (without_values (moved_by_right no_tracks false (seen_right tracks right)) holds))
      (ap (λ (b : Bool). ends_with (b || evaluation_raises right) holds after) (sym (raises_alike tracks path p simple.1 (sees tracks path)))
      ∙ ap (λ (b : Bool). ends_with (path_raises p || b) holds after) (sym (evaluation_alike tracks right g))
      ∙ ap (λ (xs : List ℕ). ends_with raised holds (without_values xs holds)) (sym (right_moves_alike tracks false right))))

  gives_by :
      (cleared other : Bool) (path : PathForm) (right : RightForm) (holds : Holds) → PathIsOrderly tracks path → RightIsOrderly tracks right → IsCleared tracks right cleared other
      → (b : Bool) (cs ds : List ℕ) → is_tracked tracks path ≡ b → path.selectors ≡ cs → (seen tracks path).selectors ≡ ds
      → GoesAlike (gives_seen types variables tracks b cleared cs path right holds) (gives_seen types variables no_tracks false other ds (seen tracks path) (seen_right tracks right) holds)
  gives_by cleared other path right holds simple g h true cs ds is sel ends = tracked_given cleared other path right holds ds g h ends is
  gives_by cleared other path right holds simple g h false [] [] is sel ends =
      variable_given cleared other path (seen tracks path) right holds g h (sym (variable_alike tracks path (seen tracks path) (sees tracks path) sel))
  gives_by cleared other path right holds simple g h false [] (d ∷ ds) is sel ends =
      absurd (let f = ap (λ (p : PathForm). p.selectors) (variable_alike tracks path (seen tracks path) (sees tracks path) sel) in cc)
  gives_by cleared other path right holds simple g h false (c ∷ cs) [] is sel ends = absurd (goes_on_behind tracks path (seen tracks path) c cs (sees tracks path) is sel ends)
  gives_by cleared other path right holds simple g h false (c ∷ cs) (d ∷ ds) is sel ends = component_given cleared other path right holds simple g h

  pub gives_path_alike :
      (cleared other : Bool) (path : PathForm) (right : RightForm) (holds : Holds) → PathIsOrderly tracks path → RightIsOrderly tracks right → IsCleared tracks right cleared other
      → GoesAlike (gives_path types variables tracks cleared path right holds) (gives_path types variables no_tracks other (seen tracks path) (seen_right tracks right) holds)
  gives_path_alike cleared other path right holds simple g h =
      gives_by cleared other path right holds simple g h (is_tracked tracks path) path.selectors (seen tracks path).selectors refl refl refl

  -- What waits while a new object is initialized.
  waits_unbroken :
      (may : ℕ → Bool) (path : PathForm) (holds : Holds) (cs : List ℕ) → broken_among tracks holds (waits_for types variables may cs path) ≡ None
      → broken_among no_tracks holds (waits_for types variables may cs (seen tracks path)) ≡ None
  waits_unbroken may path holds [] e = refl
  waits_unbroken may path holds (c ∷ cs) e =
      let p = seen tracks path in
      both_none (broken_in no_tracks holds (passes_it (component_passes types variables may p) p)) None
      (passed_less (component_passes types variables may path) (component_passes types variables may p) (hold_at holds p.root) path.spot p.spot (passes_less types variables tracks stand may path p (sees tracks path))
      (first_none (broken_in tracks holds (passes_it (component_passes types variables may path) path)) None e)) refl

  start_unbroken :
      (implicit : Implicit) (path : PathForm) (right : RightForm) (holds : Holds) → broken_among tracks holds (uses_in_start types variables tracks implicit path right) ≡ None
      → broken_among no_tracks holds (uses_in_start types variables no_tracks implicit (seen tracks path) (seen_right tracks right)) ≡ None
  start_unbroken implicit path nothing holds e = refl
  start_unbroken implicit path (value_of p) holds e = refl
  start_unbroken implicit path (allocates access items) holds e = refl
  start_unbroken implicit path (allocates_default access) holds e = waits_unbroken (implicit.start_frees access) path holds (seen tracks path).selectors e
  start_unbroken implicit path (computes f) holds e = refl

  pub assigns_alike :
      (implicit : Implicit) (cleared other : Bool) (path : PathForm) (right : RightForm) (holds : Holds) → PathIsOrderly tracks path → RightIsOrderly tracks right → IsCleared tracks right cleared other
      → GoesAlike
      (unless_broken (broken_among tracks holds (uses_in_start types variables tracks implicit path right)) (initializes variables implicit right (gives_path types variables tracks cleared path right holds)))
      (unless_broken (broken_among no_tracks holds (uses_in_start types variables no_tracks implicit (seen tracks path) (seen_right tracks right)))
      (initializes variables implicit (seen_right tracks right) (gives_path types variables no_tracks other (seen tracks path) (seen_right tracks right) holds)))
  assigns_alike implicit cleared other path right holds simple g h =
      let a = gives_path types variables tracks cleared path right holds in
      let b = gives_path types variables no_tracks other (seen tracks path) (seen_right tracks right) holds in
      using_alike (broken_among tracks holds (uses_in_start types variables tracks implicit path right)) (broken_among no_tracks holds (uses_in_start types variables no_tracks implicit (seen tracks path) (seen_right tracks right)))
      (initializes variables implicit right a) (initializes variables implicit (seen_right tracks right) b)
      (start_unbroken implicit path right holds)
      (λ unused. initializes_alike tracks variables implicit right a b (gives_path_alike cleared other path right holds simple g h))
