-- Where no Adjust is of a type that declares components of access types, no body tracks any, and a record with one leaves two owners when it is copied.

use Rattle.std.proofs.Common.{◌≡◌, ℕ, zero, suc, Bool, true, false, ◌&&◌, ◌||◌, not, List, [], ◌∷◌, length, refl}
use Rattle.std.specs.Prelude.{Option, Some, None}
use Rattle.std.specs.Prelude.{if◌then◌else◌}
use Rattle.std.specs.List.{list_any, slice_get}
use Rattle.ada_program.specs.declared.program.ComponentKind.{ComponentKind}
use Rattle.ada_program.specs.declared.program.ComponentKind.TheVariants as component
use Rattle.ada_program.specs.declared.program.Finalization.{Finalization}
use Rattle.ada_program.specs.declared.program.PartKind.{PartKind}
use Rattle.ada_program.specs.declared.program.PartKind.TheVariants as part
use Rattle.ada_program.specs.declared.program.ProcedureNo.{ProcedureNo}
use Rattle.ada_program.specs.ProgramForm.{PartForm, TypeForm, record_of, access_to, object_of, BodyForm}
use Rattle.ada_program.specs.WellFormed.{is_inherited, variable_kind}
use Rattle.ada_program.specs.Parts.{is_record_among, has_component_among}
use Rattle.ada_flow.specs.Flow.{is_owning_part, is_owning_record, leaves_copies, leaves_own, owns_within, declares_owner, leaves_within, leaves_owners, object_record, is_procedure, tracked_of, tracked_by_adjust, tracks_of}
use Rattle.ada_flow.specs.Tracking.{no_tracks, tracks_behind, number_within, access_numbers}
use Rattle.ada_sound.specs.Untracked.{AdjustsNoOwners}

any_true : (b : Bool) → (b || true) ≡ true
any_true true = refl
any_true false = refl

-- Components of which none is of an access type, but one is, or is a record that has one.
module _ (types : List TypeForm) (within : ℕ → Bool) (more : (t : ℕ) → is_owning_record types t ≡ true → within t ≡ true) where
  one_within : (kind : PartKind) → owns_within types kind ≡ true → is_owning_part kind ≡ false → is_record_among within kind ≡ true
  one_within (part.Elementary kind) owns none = absurd (cc (owns, none))
  one_within (part.Record t) owns none = more t.0 owns
  one_within part.Parent owns none = absurd (cc owns)

  some_within : (ps : List PartForm) → list_any (λ c. owns_within types c.kind) ps ≡ true → list_any (λ c. is_owning_part c.kind) ps ≡ false
      → list_any (λ c. is_record_among within c.kind) ps ≡ true
  some_within [] owns none = absurd (cc owns)
  some_within (p ∷ ps) owns none = go (some_within ps) (is_owning_part p.kind) (owns_within types p.kind) refl refl owns none
    where
      go : (list_any (λ c. owns_within types c.kind) ps ≡ true → list_any (λ c. is_owning_part c.kind) ps ≡ false → list_any (λ c. is_record_among within c.kind) ps ≡ true)
          → (direct owned : Bool) → is_owning_part p.kind ≡ direct → owns_within types p.kind ≡ owned
          → (owned || list_any (λ c. owns_within types c.kind) ps) ≡ true → (direct || list_any (λ c. is_owning_part c.kind) ps) ≡ false
          → (is_record_among within p.kind || list_any (λ c. is_record_among within c.kind) ps) ≡ true
      go later true owned d o owns none = absurd (cc none)
      go later false true d o owns none = rw (one_within p.kind o d) refl
      go later false false d o owns none = rw (later owns none) (any_true (is_record_among within p.kind))

module _ (types : List TypeForm) (none : AdjustsNoOwners types) where
  -- A type that declares one has no Adjust of its own.
  leaves_here : (t : ℕ) (name : List ℕ) (parts : List PartForm) (components : List ComponentKind) (f : Option Finalization)
      → slice_get types t ≡ Some (record_of name parts components f) → list_any (λ c. is_owning_part c.kind) parts ≡ true → leaves_copies f ≡ true
  leaves_here t name parts components None at owns = refl
  leaves_here t name parts components (Some f) at owns = none t name parts components f at owns

  leaves_at : (n t : ℕ) (o : Option TypeForm) → slice_get types t ≡ o → ((u : ℕ) → is_owning_record types u ≡ true → leaves_within types n u ≡ true)
      → (leaves_own o || (not (declares_owner types o) || has_component_among (leaves_within types n) o)) ≡ true
  leaves_at n t None at more = refl
  leaves_at n t (Some (access_to name designated pool)) at more = refl
  leaves_at n t (Some (object_of record_type)) at more = refl
  leaves_at n t (Some (record_of name parts components f)) at more =
      go (list_any (λ c. is_owning_part c.kind) parts) (list_any (λ c. owns_within types c.kind) parts) refl refl
    where
      go : (direct owned : Bool) → list_any (λ c. is_owning_part c.kind) parts ≡ direct → list_any (λ c. owns_within types c.kind) parts ≡ owned
          → (direct && leaves_copies f || (not owned || list_any (λ c. is_record_among (leaves_within types n) c.kind) parts)) ≡ true
      go true owned d o = rw (leaves_here t name parts components f at d) refl
      go false false d o = refl
      go false true d o = some_within types (leaves_within types n) more parts o d

  leaves_deep : (n t : ℕ) → is_owning_record types t ≡ true → leaves_within types n t ≡ true
  leaves_deep zero t owns = owns
  leaves_deep (suc n) t owns = rw owns (leaves_at n t (slice_get types t) refl (leaves_deep n))

  -- A record of which a copy leaves no two owners owns nothing.
  pub owns_nothing : (t : ℕ) → leaves_owners types t ≡ false → is_owning_record types t ≡ false
  owns_nothing t leaves = go (is_owning_record types t) refl
    where
      go : (b : Bool) → is_owning_record types t ≡ b → is_owning_record types t ≡ false
      go false e = e
      go true e = let left = leaves_deep (length types) t e in absurd (cc (left, leaves))

  none_number : (first : ℕ) (kind : PartKind) → is_owning_part kind ≡ false → number_within first kind ≡ []
  none_number first (part.Elementary (component.Integer initial)) e = refl
  none_number first (part.Elementary (component.Boolean initial)) e = refl
  none_number first (part.Elementary (component.Access access)) e = absurd (cc e)
  none_number first (part.Record t) e = refl
  none_number first part.Parent e = refl

  none_numbers : (ps : List PartForm) → list_any (λ c. is_owning_part c.kind) ps ≡ false → access_numbers ps ≡ []
  none_numbers [] e = refl
  none_numbers (p ∷ ps) e = go (none_numbers ps) (is_owning_part p.kind) refl e
    where
      go : (list_any (λ c. is_owning_part c.kind) ps ≡ false → access_numbers ps ≡ []) → (b : Bool) → is_owning_part p.kind ≡ b → (b || list_any (λ c. is_owning_part c.kind) ps) ≡ false → access_numbers (p ∷ ps) ≡ []
      go later true d e = absurd (cc e)
      go later false d e = rw (none_number p.first p.kind d, later e) refl

  overridden : (q : ℕ) (o : Option ProcedureNo) → is_procedure q o ≡ true → is_inherited o ≡ true → ⊥
  overridden q None is inherits = cc is
  overridden q (Some procedure) is inherits = cc inherits

  tracks_at : (q t : ℕ) (o : Option TypeForm) → slice_get types t ≡ o → tracked_of q o ≡ []
  tracks_at q t None at = refl
  tracks_at q t (Some (access_to name designated pool)) at = refl
  tracks_at q t (Some (object_of record_type)) at = refl
  tracks_at q t (Some (record_of name parts components None)) at = refl
  tracks_at q t (Some (record_of name parts components (Some f))) at = go (is_procedure q f.operations.adjust) refl
    where
      by : (b : Bool) → list_any (λ c. is_owning_part c.kind) parts ≡ b → is_procedure q f.operations.adjust ≡ true → access_numbers parts ≡ []
      by false owns is = none_numbers parts owns
      by true owns is = absurd (overridden q f.operations.adjust is (none t name parts components f at owns))

      go : (b : Bool) → is_procedure q f.operations.adjust ≡ b → (if b then access_numbers parts else []) ≡ []
      go false e = refl
      go true e = by (list_any (λ c. is_owning_part c.kind) parts) refl e

  -- No body tracks anything.
  pub tracks_nothing : (q : ℕ) (b : BodyForm) → tracks_of types q b ≡ no_tracks
  tracks_nothing q b = by (object_record types (variable_kind b.variables 0))
    where
      by : (o : Option ℕ) → tracks_behind (length b.variables) (tracked_by_adjust types q o) ≡ no_tracks
      by None = refl
      by (Some r) = rw (tracks_at q r (slice_get types r) refl) refl
