-- Procedures that override an Adjust which tracks components (7.6) stand apart where operations are in use: what is called, and what overrides another operation, tracks
-- nothing.

use Rattle.std.proofs.Common.{◌≡◌, ℕ, zero, suc, Bool, true, false, ◌&&◌, ◌||◌, not, if◌then◌else◌, List, [], ◌∷◌, length, map, ◌+◌, refl, sym, ◌∙◌, ◌⊎◌, inl, inr}
use Rattle.std.specs.Prelude.{Option, Some, None, is_some, find}
use Rattle.std.specs.List.{list_all, list_any, slice_get}
use Rattle.std.proofs.lemmas.Bool.{eq-eqb, not-true}
use Rattle.ada_program.specs.declared.program.Finalization.{Finalization}
use Rattle.ada_program.specs.declared.program.ProcedureNo.{ProcedureNo}
use Rattle.ada_program.specs.declared.program.ComponentKind.TheVariants as component
use Rattle.ada_program.specs.declared.program.PartKind.{PartKind}
use Rattle.ada_program.specs.declared.program.PartKind.TheVariants as part
use Rattle.ada_program.specs.Controlled.{operations_in, operations_by, operations_of, number_by, is_number, procedure_number}
use Rattle.ada_program.specs.declared.program.Operations.{Operations}
use Rattle.ada_program.specs.declared.program.Program.{Program}
use Rattle.ada_program.specs.declared.program.TypeDefinition.{TypeDefinition}
use Rattle.ada_program.specs.declared.program.TypeDefinition.TheVariants as definition
use Rattle.ada_meaning.specs.declared.event.Birth.TheVariants.{Creation, Copy, Adjustment}
use Rattle.ada_meaning.specs.Frame.{Treatment, begins, ends}
use Rattle.ada_sound.proofs.Operating.{IsCalled}
use Rattle.ada_sound.proofs.QuietOperations.{MayTouch}
use Rattle.ada_program.specs.ProgramForm.{PartForm, TypeForm, record_of, access_to, object_of, type_form, BodyForm, ProgramForm, main_body, program_form}
use Rattle.ada_program.specs.WellFormed.{IsWellFormed, finalization_in, has_operations, have_operations, overrides_rightly, is_operation, callable_in, profile_of, is_inherited, variable_kind}
use Rattle.ada_flow.specs.Flow.{is_owning_part, object_record, is_procedure, tracked_of, tracked_by_adjust, tracks_of}
use Rattle.ada_flow.specs.Tracking.{no_tracks, tracks_behind, access_numbers, number_within}
use Rattle.ada_quiet.specs.Apart.{is_this_one, is_adjust_of, is_tracker, body_calls_apart, overrides_apart, operations_apart, operations_stand_apart}
use Rattle.ada_quiet.specs.Idle.{makes_parts, copies_parts}
use Rattle.ada_quiet.specs.InUse.{uses_adjust, may_be_frugal, uses_operations, operations_are_idle, operations_may_be_called, operations_are_in_use, is_copied_in_order, may_track, adjusts_nothing, operations_stand_in_order}
use Rattle.ada_quiet.specs.Quiet.{has_access, is_of_access, operation_body}
use Rattle.ada_sound.proofs.OperationStarts.{apart}
use Rattle.ada_sound.specs.Untracked.{AdjustsNoOwners}

-- Where operations are in use, nothing tracks, or what tracks stands apart.
module _ (p : ProgramForm) where
  body_there : (bs : List BodyForm) (n t : ℕ) → is_operation p.types t (slice_get (map profile_of bs) n) ≡ true → is_some (slice_get bs n) ≡ true
  body_there [] n t is = absurd (cc is)
  body_there (b ∷ bs) zero t is = refl
  body_there (b ∷ bs) (suc n) t is = body_there bs n t is

  none_by : (owns : Bool) (n : ℕ) (adjust : Option ProcedureNo) → overrides_rightly p.types (callable_in p) n adjust ≡ true → uses_adjust p owns adjust ≡ true
      → adjusts_nothing p ≡ false → may_track p ≡ false → (m : ℕ) → (owns && is_this_one m adjust) ≡ false
  none_by false n adjust right uses some never m = refl
  none_by true n None right uses some never m = refl
  none_by true n (Some procedure) right uses some never m =
      let there : is_some (operation_body p (Some procedure)) ≡ true = body_there p.bodies procedure.0 n right in
      let is = rw (some, there, never) at uses in
      absurd (cc is)

  none_at : (n : ℕ) (t : TypeForm) (f : Option Finalization) → finalization_in (Some t) ≡ f → has_operations p.types (callable_in p) n f ≡ true
      → uses_operations p (has_access (Some t)) f ≡ true → adjusts_nothing p ≡ false → may_track p ≡ false → (m : ℕ) → (has_access (Some t) && is_adjust_of m f) ≡ false
  none_at n t None is right uses some never m = and_none (has_access (Some t))
    where
      and_none : (b : Bool) → (b && false) ≡ false
      and_none true = refl
      and_none false = refl
  none_at n t (Some f) is right uses some never m =
      let two = apart _ _ right in
      let three = apart _ _ two.0 in
      let uses_two = apart _ _ uses in
      let uses_three = apart _ _ uses_two.0 in
      none_by (has_access (Some t)) n f.operations.adjust three.1 uses_three.1 some never m

  none_among : (n : ℕ) (ts : List TypeForm) → have_operations p.types (callable_in p) n ts ≡ true
      → list_all (λ t. uses_operations p (has_access (Some t)) (finalization_in (Some t))) ts ≡ true → adjusts_nothing p ≡ false → may_track p ≡ false
      → (m : ℕ) → list_any (λ t. has_access (Some t) && is_adjust_of m (finalization_in (Some t))) ts ≡ false
  none_among n [] right uses some never m = refl
  none_among n (t ∷ ts) right uses some never m =
      let rights = apart _ _ right in
      let both = apart _ _ uses in
      rw (none_at n t (finalization_in (Some t)) refl rights.0 both.0 some never m, none_among (1 + n) ts rights.1 both.1 some never m) refl

  -- Where components may be tracked, operations may be frugal, and the components of each record stand in order.
  frugal_and_order : may_track p ≡ true → (may_be_frugal p ≡ true) × (list_all (is_copied_in_order p.types) p.types ≡ true)
  frugal_and_order may = apart (may_be_frugal p) (list_all (is_copied_in_order p.types) p.types) may

  pub frugal_too : may_track p ≡ true → may_be_frugal p ≡ true
  frugal_too may = (frugal_and_order may).0

  pub order_too : may_track p ≡ true → list_all (is_copied_in_order p.types) p.types ≡ true
  order_too may = (frugal_and_order may).1

  pub stands_apart : may_track p ≡ true → operations_stand_apart p ≡ true
  stands_apart may = frugal_too may

  -- What tracks components stands apart, and the components of each record stand in order.
  abbrev pub TracksApart : Type 0
  TracksApart = (operations_stand_apart p ≡ true) × (list_all (is_copied_in_order p.types) p.types ≡ true)

  -- So it is where components may be tracked, and where operations are idle.
  pub tracks_apart : may_track p ≡ true → TracksApart
  tracks_apart may = (stands_apart may, order_too may)

  idle_apart : operations_are_idle p ≡ true → TracksApart
  idle_apart idle = apart (operations_stand_apart p) (list_all (is_copied_in_order p.types) p.types) (apart (not (makes_parts p)) (operations_stand_in_order p) idle).1

  -- And so it is where no Adjust is called.
  nothing_apart : adjusts_nothing p ≡ true → TracksApart
  nothing_apart nothing = apart (operations_stand_apart p) (list_all (is_copied_in_order p.types) p.types) (apart (not (copies_parts p)) (operations_stand_in_order p) nothing).1

  -- Nothing tracks, or what does stands apart.
  abbrev pub TracksSafely : Type 0
  TracksSafely = ((m : ℕ) → is_tracker p m ≡ false) ⊎ TracksApart

  called_safely : IsWellFormed p → operations_may_be_called p ≡ true → TracksSafely
  called_safely well called = by (may_track p) (adjusts_nothing p) refl refl
    where
      by : (may nothing : Bool) → may_track p ≡ may → adjusts_nothing p ≡ nothing → TracksSafely
      by true nothing may none = inr (tracks_apart may)
      by false true never none = inr (nothing_apart none)
      by false false never some = inl (none_among 0 p.types well.operations_fit called some never)

  pub tracks_safely : IsWellFormed p → operations_are_in_use p ≡ true → TracksSafely
  tracks_safely well uses = by (operations_are_idle p) refl uses
    where
      by : (idle : Bool) → operations_are_idle p ≡ idle → (idle || operations_may_be_called p) ≡ true → TracksSafely
      by true idle uses' = inr (idle_apart idle)
      by false never uses' = called_safely well uses'

  -- Where operations stand apart, no body calls what tracks.
  pub calls_stand_apart : operations_stand_apart p ≡ true → (body_calls_apart p.types (is_tracker p) (main_body p) ≡ true) × (list_all (body_calls_apart p.types (is_tracker p)) p.bodies ≡ true)
  calls_stand_apart stand = apart _ _ (apart (body_calls_apart p.types (is_tracker p) (main_body p) && list_all (body_calls_apart p.types (is_tracker p)) p.bodies) _ stand).0

  -- What does not track has a body that tracks nothing.
  none_number : (first : ℕ) (kind : PartKind) → is_of_access kind ≡ false → number_within first kind ≡ []
  none_number first (part.Elementary (component.Integer initial)) e = refl
  none_number first (part.Elementary (component.Boolean initial)) e = refl
  none_number first (part.Elementary (component.Access access)) e = absurd (cc e)
  none_number first (part.Record t) e = refl
  none_number first part.Parent e = refl

  none_numbers : (ps : List PartForm) → list_any (λ c. is_of_access c.kind) ps ≡ false → access_numbers ps ≡ []
  none_numbers [] e = refl
  none_numbers (q ∷ ps) e = go (none_numbers ps) (is_of_access q.kind) refl e
    where
      go : (list_any (λ c. is_of_access c.kind) ps ≡ false → access_numbers ps ≡ []) → (b : Bool) → is_of_access q.kind ≡ b → (b || list_any (λ c. is_of_access c.kind) ps) ≡ false → access_numbers (q ∷ ps) ≡ []
      go later true d e = absurd (cc e)
      go later false d e = rw (none_number q.first q.kind d, later e) refl

  any_at : (ts : List TypeForm) (t : ℕ) (found : TypeForm) (test : TypeForm → Bool) → slice_get ts t ≡ Some found → list_any test ts ≡ false → test found ≡ false
  any_at [] t found test is none = absurd (cc is)
  any_at (u ∷ ts) zero found test is none = let same : u ≡ found = cc is in rw (← same) (first (test u) none)
    where
      first : (b : Bool) → (b || list_any test ts) ≡ false → b ≡ false
      first true e = absurd (cc e)
      first false e = refl
  any_at (u ∷ ts) (suc t) found test is none = any_at ts t found test is (later (test u) none)
    where
      later : (b : Bool) → (b || list_any test ts) ≡ false → list_any test ts ≡ false
      later true e = absurd (cc e)
      later false e = e

  same_test : (q : ℕ) (o : Option ProcedureNo) → is_procedure q o ≡ is_this_one q o
  same_test q None = refl
  same_test q (Some procedure) = refl

  tracked_none : (q : ℕ) (t : TypeForm) → (has_access (Some t) && is_adjust_of q (finalization_in (Some t))) ≡ false → tracked_of q (Some t) ≡ []
  tracked_none q (access_to name designated pool) none = refl
  tracked_none q (object_of record_type) none = refl
  tracked_none q (record_of name parts components None) none = refl
  tracked_none q (record_of name parts components (Some f)) none = go (list_any (λ c. is_of_access c.kind) parts) refl none
    where
      go : (b : Bool) → list_any (λ c. is_of_access c.kind) parts ≡ b → (b && is_this_one q f.operations.adjust) ≡ false → (if is_procedure q f.operations.adjust then access_numbers parts else []) ≡ []
      go true e none' = rw (same_test q f.operations.adjust, none') refl
      go false e none' = by (is_procedure q f.operations.adjust)
        where
          by : (b : Bool) → (if b then access_numbers parts else []) ≡ []
          by true = none_numbers parts e
          by false = refl

  tracked_at : (q t : ℕ) (found : Option TypeForm) → slice_get p.types t ≡ found → is_tracker p q ≡ false → tracked_of q found ≡ []
  tracked_at q t None is none = refl
  tracked_at q t (Some found) is none = tracked_none q found (any_at p.types t found (λ u. has_access (Some u) && is_adjust_of q (finalization_in (Some u))) is none)

  pub untracked_by : (q : ℕ) (b : BodyForm) → is_tracker p q ≡ false → tracks_of p.types q b ≡ no_tracks
  untracked_by q b none = by (object_record p.types (variable_kind b.variables 0))
    where
      by : (o : Option ℕ) → tracks_behind (length b.variables) (tracked_by_adjust p.types q o) ≡ no_tracks
      by None = refl
      by (Some r) = rw (tracked_at q r (slice_get p.types r) refl none) refl

-- What overrides Initialize or Finalize of a type does not track.
module _ (tracks : ℕ → Bool) where
  pub record ArePlainlyCalled (o : Operations) : Type 0 where
    pub initialize : overrides_apart tracks o.initialize ≡ true
    pub finalize : overrides_apart tracks o.finalize ≡ true

  three_plainly : (owns : Bool) (f : Option Finalization) → operations_apart tracks owns f ≡ true → ArePlainlyCalled (operations_in f)
  three_plainly owns None is = record { initialize = refl; finalize = refl }
  three_plainly owns (Some f) is =
      let two = apart _ _ is in
      let one = apart _ _ two.0 in
      record { initialize = one.0; finalize = two.1 }

  plainly_by : (t : TypeDefinition) → operations_apart tracks (has_access (Some (type_form t))) (finalization_in (Some (type_form t))) ≡ true → ArePlainlyCalled (operations_by (Some t))
  plainly_by (definition.Record name parts components finalization) is = three_plainly (has_access (Some (type_form (definition.Record name parts components finalization)))) finalization is
  plainly_by (definition.Access name designated pool) is = three_plainly false None refl
  plainly_by (definition.Object record_type) is = three_plainly false None refl

  pub plainly_found : (test : TypeDefinition → Bool) (types : List TypeDefinition)
      → list_all (λ t. operations_apart tracks (has_access (Some t)) (finalization_in (Some t))) (map type_form types) ≡ true → ArePlainlyCalled (operations_by (find test types))
  plainly_found test [] is = three_plainly false None refl
  plainly_found test (t ∷ types) is = by (test t) (plainly_found test types (apart _ _ is).1)
    where
      by : (here : Bool) → ArePlainlyCalled (operations_by (find test types)) → ArePlainlyCalled (operations_by (if here then Some t else find test types))
      by true later = plainly_by t (apart _ _ is).0
      by false later = later

  pub called_plainly : (o : Option ProcedureNo) (number : ℕ) → overrides_apart tracks o ≡ true → procedure_number o ≡ Some number → tracks number ≡ false
  called_plainly None number is called = absurd (cc called)
  called_plainly (Some procedure) number is called = let same : procedure.0 ≡ number = cc called in not-true (tracks number) (rw same at is)

-- So it is where an operation of a type with controlled parts is called that may touch storage.
pub touches_apart : (program : Program) → TracksSafely (program_form program) → (of number : ℕ) (treatment : Treatment) → MayTouch (program_form program) number treatment
    → IsCalled (operations_of program.types.items of) treatment number → is_tracker (program_form program) number ≡ false
touches_apart program (inl none) of number treatment may called = none number
touches_apart program (inr tracks) of number treatment may called = by treatment may called
  where
    plainly : ArePlainlyCalled (is_tracker (program_form program)) (operations_of program.types.items of)
    plainly =
        plainly_found (is_tracker (program_form program)) (λ t. is_number of (number_by (Some t))) program.types.items
        (apart (body_calls_apart (program_form program).types (is_tracker (program_form program)) (main_body (program_form program)) && list_all (body_calls_apart (program_form program).types (is_tracker (program_form program))) (program_form program).bodies) _
        tracks.0).1

    by : (treatment' : Treatment) → MayTouch (program_form program) number treatment' → IsCalled (operations_of program.types.items of) treatment' number → is_tracker (program_form program) number ≡ false
    by (begins Creation done) may' called' = called_plainly (is_tracker (program_form program)) _ number plainly.initialize called'
    by (begins Copy done) may' called' = may'.0.1
    by (begins (Adjustment n) done) may' called' = may'.0.1
    by (ends cause) may' called' = called_plainly (is_tracker (program_form program)) _ number plainly.finalize called'

-- A type declares a component of an access type where a declared component owns.
of_access : (kind : PartKind) → is_owning_part kind ≡ is_of_access kind
of_access (part.Elementary (component.Integer initial)) = refl
of_access (part.Elementary (component.Boolean initial)) = refl
of_access (part.Elementary (component.Access access)) = refl
of_access (part.Record u) = refl
of_access part.Parent = refl

pub owns_access : (ps : List PartForm) → list_any (λ c. is_owning_part c.kind) ps ≡ list_any (λ c. is_of_access c.kind) ps
owns_access [] = refl
owns_access (q ∷ ps) = rw (of_access q.kind, owns_access ps) refl

-- Where nothing tracks, no Adjust is of a type that declares components of access types.
pub nothing_adjusts : (p : ProgramForm) → ((m : ℕ) → is_tracker p m ≡ false) → AdjustsNoOwners p.types
nothing_adjusts p none t name parts components f at owns = by f.operations.adjust refl
  where
    by : (adjust : Option ProcedureNo) → f.operations.adjust ≡ adjust → is_inherited adjust ≡ true
    by None is = refl
    by (Some q) is =
        let test = λ (u : TypeForm). has_access (Some u) && is_adjust_of q.0 (finalization_in (Some u)) in
        let never : test (record_of name parts components (Some f)) ≡ false = any_at p p.types t (record_of name parts components (Some f)) test at (none q.0) in
        let access : list_any (λ c. is_of_access c.kind) parts ≡ true = sym (owns_access parts) ∙ owns in
        let always : test (record_of name parts components (Some f)) ≡ true = rw (access, is, eq-eqb q.0 q.0 refl) refl in
        absurd (cc (never, always))
