-- The Adjust that sees to the components of access types of a record (7.6) is simple, and tracks them.

use Rattle.std.proofs.Common.{◌≡◌, ℕ, Bool, true, false, ◌&&◌, List, length, refl, sym, ◌∙◌, subst, [], ◌∷◌, ◌≢◌}
use Rattle.std.specs.List.{list_any, slice_get}
use Rattle.std.specs.Prelude.{Option, Some, None}
use Rattle.ada_meaning.specs.Frame.{begins, Treatment}
use Rattle.ada_meaning.specs.Named.{State}
use Rattle.ada_meaning.specs.Run.{Event}
use Rattle.ada_meaning.specs.State.{Activation}
use Rattle.ada_meaning.specs.declared.event.Birth.{Birth}
use Rattle.ada_meaning.specs.declared.state.Id.{Id}
use Rattle.ada_meaning.specs.declared.state.Value.{Value}
use Rattle.ada_parts.specs.Part as parts
use Rattle.ada_parts.specs.Shape.{shape_of}
use Rattle.ada_parts.specs.Task.{performs}
use Rattle.ada_program.specs.Controlled.{number_in, operations_of, procedure_number}
use Rattle.ada_program.specs.ProgramForm.{TypeForm, PartForm, record_of, access_to, object_of, BodyForm, ProgramForm, body_forms, program_form}
use Rattle.ada_program.specs.WellFormed.{IsWellFormed, finalization_in, is_inherited, is_parent}
use Rattle.ada_program.specs.declared.program.ComponentKind.{ComponentKind}
use Rattle.ada_program.specs.declared.program.Finalization.{Finalization}
use Rattle.ada_program.specs.declared.program.ProcedureNo.{ProcedureNo}
use Rattle.ada_program.specs.declared.program.Program.{Program}
use Rattle.ada_quiet.specs.Apart.{is_this_one, is_adjust_of, is_tracker}
use Rattle.ada_quiet.specs.Idle.{copies_parts}
use Rattle.ada_quiet.specs.InUse.{adjusts_itself, is_copied_in_order, may_track, operations_may_be_called, stand_in_a_row, uses_adjust, uses_finalize, uses_initialize, uses_operations, uses_called_adjust}
use Rattle.ada_quiet.specs.Quiet.{has_access}
use Rattle.ada_quiet.specs.Simple.{is_simple_body}
use Rattle.ada_sound.proofs.AdjustingEnters.{own_adjust}
use Rattle.ada_sound.proofs.Callers.{Suspension, known_in}
use Rattle.ada_sound.proofs.CopiedOwners.{BeginsCopy, SeesToOwners, CopyLeft, owners_numbered}
use Rattle.ada_sound.proofs.Invariant.{Control}
use Rattle.ada_sound.proofs.OnlyParts.{passed_at}
use Rattle.ada_sound.proofs.OnlyPlaces.{shown_as_controlled}
use Rattle.ada_sound.proofs.OnlyRows.{none_passes}
use Rattle.ada_sound.proofs.Operating.{IsCalled}
use Rattle.ada_sound.proofs.OperationStarts.{apart}
use Rattle.ada_sound.proofs.PartsApart.{called_sees}
use Rattle.ada_sound.proofs.QuietOperations.{AdjustsOwn, MayTrack, this_one, called_adjust}
use Rattle.ada_sound.proofs.Returns.{same_types}
use Rattle.ada_sound.proofs.SeenOwners.{parent_shown}
use Rattle.ada_sound.proofs.Trackers.{order_too, owns_access}
use Rattle.ada_sound.proofs.TracksWell.{copied_in_order}
use Rattle.ada_sound.proofs.Treatments.{BeginsAdjust}
use Rattle.ada_typed.proofs.Parts.{shows_parent, shown_shapes}

-- The Adjust of a type that declares a component of an access type is in use: it may track.
uses_body : (p : ProgramForm) (o : Option ProcedureNo) (number : ℕ) (b : BodyForm) → procedure_number o ≡ Some number → slice_get p.bodies number ≡ Some b → uses_called_adjust p true o ≡ true → MayTrack p b
uses_body p None number b is there uses = absurd (cc is)
uses_body p (Some procedure) number b is there uses =
    let same : procedure.0 ≡ number = cc is in
    let body : slice_get p.bodies procedure.0 ≡ Some b = rw same there in
    apart (may_track p) (is_simple_body p.types b) (rw body at uses)

-- What some type of a program has makes a procedure one that tracks.
tracks_at : (p : ProgramForm) (number r : ℕ) (t : TypeForm) → slice_get p.types r ≡ Some t → has_access (Some t) ≡ true → is_adjust_of number (finalization_in (Some t)) ≡ true → is_tracker p number ≡ true
tracks_at p number r t at owns is = by (is_tracker p number) refl
  where
    test : TypeForm → Bool
    test u = has_access (Some u) && is_adjust_of number (finalization_in (Some u))

    by : (b : Bool) → list_any test p.types ≡ b → b ≡ true
    by true some = refl
    by false none =
        let passes : test t ≡ true = rw (owns, is) refl in
        absurd (cc (none_passes test p.types r t none at, passes))

-- A record that an Adjust sees to.
module _ (program : Program) (well : IsWellFormed (program_form program)) (r of : ℕ) (s : SeesToOwners (program_form program).types r of) where
  abbrev p : ProgramForm
  p = program_form program

  abbrev form : TypeForm
  form = record_of s.name s.parts s.components (Some s.finalization)

  abbrev adjust : Option ProcedureNo
  adjust = s.finalization.operations.adjust

  -- The record declares a component of an access type.
  own_access : has_access (Some form) ≡ true
  own_access = sym (owns_access s.parts) ∙ s.declares

  -- So its Adjust is in use as one that may track.
  own_used : copies_parts p ≡ true → operations_may_be_called p ≡ true → uses_called_adjust p true adjust ≡ true
  own_used copies uses =
      let o = s.finalization.operations in
      let all = passed_at (λ t. uses_operations p (has_access (Some t)) (finalization_in (Some t))) p.types r form uses s.at in
      let three = apart (uses_initialize p o.initialize && uses_adjust p (has_access (Some form)) adjust) (uses_finalize p o.finalize) all in
      let two = apart (uses_initialize p o.initialize) (uses_adjust p (has_access (Some form)) adjust) three.0 in
      called_adjust p true adjust copies (subst (λ (owns : Bool). uses_adjust p owns adjust ≡ true) own_access two.1)

pub tracks_as :
    (program : Program) → IsWellFormed (program_form program) → copies_parts (program_form program) ≡ true → operations_may_be_called (program_form program) ≡ true → (r of : ℕ) → SeesToOwners (program_form program).types r of
    → (by : Birth) → BeginsCopy by → (done : List parts.Part) (number : ℕ) (b : BodyForm) → slice_get (body_forms program) number ≡ Some b
    → IsCalled (operations_of program.types.items of) (begins by done) number → MayTrack (program_form program) b × (is_tracker (program_form program) number ≡ true)
tracks_as program well copied uses r of s by copies done number b there called =
    let is = own_adjust program well r of s by copies number called in
    let used = own_used program well r of s copied uses in (
      uses_body (program_form program) s.finalization.operations.adjust number b is there used,
      tracks_at (program_form program) number r (form program well r of s) s.at (own_access program well r of s) (this_one s.finalization.operations.adjust number is),
    )

-- So is the Adjust that is called for a part of a copy which declares such components.
pub adjust_tracks :
    (program : Program) → IsWellFormed (program_form program) → copies_parts (program_form program) ≡ true → operations_may_be_called (program_form program) ≡ true
    → (a : Activation Value) (rest : List (Activation Value)) (s : State) (gs : List Suspension) (v : Value) (k : Control) (IsOperated : Treatment → Id → ℕ → Type 0) (e : Event) (after : State)
    → (c : BeginsAdjust (known_in program a.procedure gs) a rest s program.types.items (body_forms program) v k IsOperated e after)
    → MayTrack (program_form program) c.b × (is_tracker (program_form program) c.number ≡ true)
adjust_tracks program well copied uses a rest s gs v k IsOperated e after c =
    let same = same_types a.procedure (program_form program) in
    let access = c.to.x.cell.access in
    let r = c.to.record_type in
    let left = subst (λ (types : List TypeForm). CopyLeft types access r (performs c.of c.part ∷ c.tasks)) same c.to.left in
    let owns = subst (λ (types : List TypeForm). owners_numbered types c.of ≢ []) same c.owns in
    let sees = called_sees program well access r c.of c.part c.tasks left owns in
    tracks_as program well copied uses sees.0 c.of sees.1 c.by c.copies c.done c.number c.b c.there c.called

-- A type that overrides Adjust inherits none.
overrides_some : (number : ℕ) (o : Option ProcedureNo) → is_this_one number o ≡ true → is_inherited o ≡ false
overrides_some number None is = absurd (cc is)
overrides_some number (Some procedure) is = refl

module _ (program : Program) (well : IsWellFormed (program_form program)) (may : may_track (program_form program) ≡ true) where
  abbrev types : List TypeForm
  types = (program_form program).types

  -- A record type that overrides Adjust is controlled itself, where components may be tracked.
  parent_so : (r : ℕ) (name : List ℕ) (ps : List PartForm) (components : List ComponentKind) (f : Finalization) → slice_get types r ≡ Some (record_of name ps components (Some f))
      → is_inherited f.operations.adjust ≡ false → shows_parent ps ≡ true
  parent_so r name ps components f at overrides =
      let order = passed_at (is_copied_in_order types) types r (record_of name ps components (Some f)) (copied_in_order (program_form program) well (order_too (program_form program) may)).copied_in_order at in
      let last = (apart (stand_in_a_row types 0 ps (length components)) (adjusts_itself ps (Some f)) order).1 in
      let parent : list_any (λ c. is_parent c.kind) ps ≡ true = rw overrides at last in
      sym (parent_shown ps) ∙ parent

  sees_by : (r of number : ℕ) (t : TypeForm) → slice_get types r ≡ Some t → has_access (Some t) ≡ true → number_in (finalization_in (Some t)) ≡ Some of → is_adjust_of number (finalization_in (Some t)) ≡ true
      → SeesToOwners types r of
  sees_by r of number (access_to name designated pool) at owns numbered overrides = absurd (cc overrides)
  sees_by r of number (object_of record_type) at owns numbered overrides = absurd (cc overrides)
  sees_by r of number (record_of name ps components None) at owns numbered overrides = absurd (cc overrides)
  sees_by r of number (record_of name ps components (Some f)) at owns numbered overrides =
      let inherits_none = overrides_some number f.operations.adjust overrides in
      let parent = parent_so r name ps components f at inherits_none in
      let shown = shown_as_controlled types well.types_fit r (record { name = name; parts = ps; components = components; finalization = f; declared = at; own = parent }) in
      let same : f.number.0 ≡ of = cc numbered in
      record {
        name = name;
        parts = ps;
        components = components;
        finalization = f;
        at = at;
        numbered = shown.0 ∙ numbered;
        controlled = subst (λ (n : ℕ). (shape_of (shown_shapes types) n).controlled ≡ true) same shown.1;
        overridden = inherits_none;
        declares = owns_access ps ∙ owns;
      }

-- A record type whose own Adjust is overridden so sees to these components, where components may be tracked.
pub own_sees :
    (program : Program) → IsWellFormed (program_form program) → may_track (program_form program) ≡ true → (of number : ℕ) → (own : AdjustsOwn (program_form program).types of number)
    → SeesToOwners (program_form program).types own.record_type of
own_sees program well may of number own = sees_by program well may own.record_type of number own.t own.at own.owns own.numbered own.overrides
