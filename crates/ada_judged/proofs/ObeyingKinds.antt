-- What stands where a path leads, as it is judged.

use Rattle.std.proofs.Common.{◌≡◌, ℕ, ◌+◌, Bool, true, false, List, [], ◌∷◌, length, Option, Some, None, refl, sym, ap, ◌∙◌}
use Rattle.std.specs.Prelude.{◌==◌, ◌&&◌, ◌||◌, if◌then◌else◌}
use Rattle.std.specs.List.{slice_get}
use Rattle.ada_program.specs.declared.program.ComponentKind.{ComponentKind}
use Rattle.ada_program.specs.declared.program.ComponentKind.TheVariants as component
use Rattle.ada_program.specs.declared.program.VariableKind.{VariableKind}
use Rattle.ada_program.specs.Form.{PathForm}
use Rattle.ada_program.specs.ProgramForm.{TypeForm, VariableForm}
use Rattle.ada_program.specs.WellFormed.{component_kind, kind_among, kind_behind, reached_components, access_of, variable_kind, selected_kind, selectors_kind, root_kind, value_access, path_access, is_this, is_borrower, names_borrower}
use Rattle.ada_effects.specs.Effects.{Implicit}
use Rattle.ada_flow.specs.declared.rule.Hold.{Hold}
use Rattle.ada_flow.specs.Aliases.{is_alias}
use Rattle.ada_flow.specs.Tracking.{Tracks, is_tracked}
use Rattle.ada_flow.specs.Flow.{is_freed, passes_freed, component_passes, passes_type, passes_own, passes_reached, object_record, stays_inside, formal_record, reaches_part, formal_reached, way_reached}
use Rattle.ada_judged.specs.Obeying.{StandForTracked}
use Rattle.ada_judged.proofs.ObeyingPaths.{above, Sees, plainly, tracked}

-- Tests of which one is true.
pub second_either : (a b : Bool) → b ≡ true → (a || b) ≡ true
second_either true b e = refl
second_either false b e = e

pub either_less : (a b c d : Bool) → (a ≡ true → c ≡ true) → (b ≡ true → d ≡ true) → (a || b) ≡ true → (c || d) ≡ true
either_less true b c d h g e = ap (λ (q : Bool). q || d) (h refl)
either_less false b c d h g e = second_either c d (g e)

-- No component is a record.
held_alike : (o : Option ComponentKind) → root_kind false (component_kind o) ≡ component_kind o
held_alike None = refl
held_alike (Some (component.Integer i)) = refl
held_alike (Some (component.Boolean i)) = refl
held_alike (Some (component.Access access)) = refl

among_alike : (o : Option (List ComponentKind)) (c : ℕ) → root_kind false (kind_among o c) ≡ kind_among o c
among_alike None c = refl
among_alike (Some components) c = held_alike (slice_get components c)

behind_alike : (types : List TypeForm) (access : Option ℕ) (c : ℕ) → root_kind false (kind_behind types access c) ≡ kind_behind types access c
behind_alike types None c = refl
behind_alike types (Some access) c = among_alike (reached_components types access) c

held_none : (types : List TypeForm) (o : Option ComponentKind) → object_record types (component_kind o) ≡ None
held_none types None = refl
held_none types (Some (component.Integer i)) = refl
held_none types (Some (component.Boolean i)) = refl
held_none types (Some (component.Access access)) = refl

among_none : (types : List TypeForm) (o : Option (List ComponentKind)) (c : ℕ) → object_record types (kind_among o c) ≡ None
among_none types None c = refl
among_none types (Some components) c = held_none types (slice_get components c)

behind_none : (types : List TypeForm) (access : Option ℕ) (c : ℕ) → object_record types (kind_behind types access c) ≡ None
behind_none types None c = refl
behind_none types (Some access) c = among_none types (reached_components types access) c

module _ (types : List TypeForm) (variables : List VariableForm) (tracks : Tracks) (stand : StandForTracked types variables tracks) where
  -- The value of a path is of the same access type.
  pub access_alike : (path judged : PathForm) → (path.root ≡ 0 → path.of_record ≡ true) → Sees tracks path judged → path_access types variables judged ≡ path_access types variables path
  access_alike path judged h (plainly e f) = ap (path_access types variables) e
  access_alike path judged h (tracked i c cs root is at e f) =
      ap (path_access types variables) e
      ∙ ap (λ (kind : Option VariableKind). value_access (selectors_kind types (root_kind false kind) cs)) (stand.kinds i c at)
      ∙ ap (λ (kind : Option VariableKind). value_access (selectors_kind types kind cs)) (behind_alike types (access_of (variable_kind variables 0)) c)
      ∙ ap (λ (kind : Option VariableKind). value_access (selectors_kind types (selected_kind types kind c) cs)) (stand.formal ∙ sym (ap (root_kind true) stand.formal))
      ∙ sym (ap (λ (r : Bool). value_access (selectors_kind types (root_kind r (variable_kind variables path.root)) path.selectors)) (h root)
      ∙ ap (λ (x : ℕ). value_access (selectors_kind types (root_kind true (variable_kind variables x)) path.selectors)) root
      ∙ ap (λ (ds : List ℕ). value_access (selectors_kind types (root_kind true (variable_kind variables 0)) ds)) is)

  -- A path as it is judged follows no more values.
  pub passes_less : (may : ℕ → Bool) (path judged : PathForm) → Sees tracks path judged → component_passes types variables may judged ≡ true → component_passes types variables may path ≡ true
  passes_less may path judged (plainly e f) h = sym (ap (component_passes types variables may) e) ∙ h
  passes_less may path judged (tracked i c cs root is at e f) h =
      ap (λ (x : ℕ). passes_freed types may (variable_kind variables x) path.selectors) root
      ∙ ap (passes_freed types may (variable_kind variables 0)) is
      ∙ second_either (is_freed may (access_of (variable_kind variables 0))) (passes_freed types may (selected_kind types (variable_kind variables 0) c) cs)
      (ap (λ (kind : Option VariableKind). passes_freed types may kind cs) (sym (stand.kinds i c at)) ∙ sym (ap (component_passes types variables may) e) ∙ h)

  own_less : (path judged : PathForm) (access : Option ℕ) → Sees tracks path judged → passes_own types variables judged access ≡ true → passes_own types variables path access ≡ true
  own_less path judged None s h = h
  own_less path judged (Some t) (plainly e f) h = sym (ap (λ (p : PathForm). passes_own types variables p (Some t)) e) ∙ h
  own_less path judged (Some t) (tracked i c cs root is at e f) h =
      ap (λ (x : ℕ). passes_type types (variable_kind variables x) path.selectors t) root
      ∙ ap (λ (ds : List ℕ). passes_type types (variable_kind variables 0) ds t) is
      ∙ second_either (is_this t (access_of (variable_kind variables 0))) (passes_type types (selected_kind types (variable_kind variables 0) c) cs t)
      (ap (λ (kind : Option VariableKind). passes_type types kind cs t) (sym (stand.kinds i c at)) ∙ sym (ap (λ (p : PathForm). passes_own types variables p (Some t)) e) ∙ h)

  reached_less : (implicit : Implicit) (path judged : PathForm) (access : Option ℕ) → Sees tracks path judged → passes_reached types variables implicit judged access ≡ true → passes_reached types variables implicit path access ≡ true
  reached_less implicit path judged None s h = h
  reached_less implicit path judged (Some t) s h = passes_less (implicit.end_reaches t) path judged s h

  -- A tracked component does not lie in itself.
  no_record : (i c : ℕ) → slice_get tracks.components i ≡ Some c → (path : PathForm) (hold : Hold) → path.root ≡ tracks.first + i → formal_record types variables path hold ≡ None
  no_record i c at path hold is = tested (is_alias hold && stays_inside path.selectors)
    where
      tested : (b : Bool) → (if b then object_record types (variable_kind variables path.root) else None) ≡ None
      tested true =
          ap (λ (x : ℕ). object_record types (variable_kind variables x)) is ∙ ap (object_record types) (stand.kinds i c at)
          ∙ behind_none types (access_of (variable_kind variables 0)) c
      tested false = refl

  never_reached : (implicit : Implicit) (path : PathForm) (hold : Hold) (access : Option ℕ) → formal_record types variables path hold ≡ None → formal_reached types variables implicit path hold access ≡ false
  never_reached implicit path hold None e = refl
  never_reached implicit path hold (Some t) e = ap (reaches_part types implicit t) e

  -- Nor is the way to it unsafe where the way of the path is safe.
  pub way_less :
      (implicit : Implicit) (path judged : PathForm) (hold : ℕ → Hold) (access : Option ℕ) → Sees tracks path judged
      → way_reached types variables implicit judged (hold judged.root) access ≡ true → way_reached types variables implicit path (hold path.root) access ≡ true
  way_less implicit path judged hold access (plainly e f) h = sym (ap (λ (p : PathForm). way_reached types variables implicit p (hold p.root) access) e) ∙ h
  way_less implicit path judged hold access (tracked i c cs root is at e f) h =
      either_less (passes_own types variables judged access || passes_reached types variables implicit judged access) (formal_reached types variables implicit judged (hold judged.root) access)
      (passes_own types variables path access || passes_reached types variables implicit path access) (formal_reached types variables implicit path (hold path.root) access)
      (either_less (passes_own types variables judged access) (passes_reached types variables implicit judged access) (passes_own types variables path access) (passes_reached types variables implicit path access)
      (own_less path judged access (tracked i c cs root is at e f)) (reached_less implicit path judged access (tracked i c cs root is at e f)))
      (λ g. absurd (let never = never_reached implicit judged (hold judged.root) access (no_record i c at judged (hold judged.root) (ap (λ (p : PathForm). p.root) e)) in cc)) h

  -- A tracked component is no borrower.
  pub no_borrower : (path judged : PathForm) → Sees tracks path judged → is_tracked tracks path ≡ true → is_borrower variables judged.root ≡ false
  no_borrower path judged (plainly e f) g = absurd (cc)
  no_borrower path judged (tracked i c cs root is at e f) g = ap (λ (p : PathForm). is_borrower variables p.root) e ∙ stand.owners i c at

  -- Nor is any other component.
  component_none : (p : PathForm) (d : ℕ) (ds : List ℕ) → p.selectors ≡ d ∷ ds → names_borrower variables p ≡ false
  component_none p d ds e =
      ap (λ (cs : List ℕ). (length cs == 0) && is_borrower variables p.root) e ∙ ap (λ (b : Bool). b && is_borrower variables p.root) (above (length ds))

  pub borrower_alike : (path judged : PathForm) → Sees tracks path judged → names_borrower variables judged ≡ names_borrower variables path
  borrower_alike path judged (plainly e f) = ap (names_borrower variables) e
  borrower_alike path judged (tracked i c [] root is at e f) = ap (names_borrower variables) e ∙ stand.owners i c at ∙ sym (component_none path c [] is)
  borrower_alike path judged (tracked i c (d ∷ cs) root is at e f) =
      component_none judged d cs (ap (λ (p : PathForm). p.selectors) e) ∙ sym (component_none path c (d ∷ cs) is)
