-- The treatment of an object calls an operation that touches storage: its body begins in a sound state (7.6, 7.6.1), where no operation runs, or inside another
-- one, in which the object is freed, allocated, declared or undone, or its master is left (13.11.2, 4.8, 3.3.1, 7.6.1).

use Rattle.std.proofs.Common.{◌≡◌, ◌≢◌, ℕ, Bool, true, false, ◌⊎◌, inl, inr, List, ◌∷◌, refl, sym, ap, subst, ◌∙◌, []}
use Rattle.std.specs.Prelude.{Option, Some, None}
use Rattle.std.specs.List.{slice_get}
use Rattle.std.specs.Option.{option_map}
use Rattle.std.proofs.lemmas.Option.{slice_get-map}
use Rattle.ada_deeds.specs.Implicit.{implicit_of}
use Rattle.ada_effects.specs.Effects.{assignment_frees}
use Rattle.ada_flow.specs.Flow.{Holds}
use Rattle.ada_finalized.specs.Law.{NoOperationRuns, NoOperationRunsOn, NothingBegins}
use Rattle.ada_finalized.proofs.Standing.{AdjustsAlone, nothing_begins}
use Rattle.ada_parts.specs.Task.{Task}
use Rattle.ada_program.specs.declared.program.Program.{Program}
use Rattle.ada_program.specs.Controlled.{operations_of}
use Rattle.ada_program.specs.ProgramForm.{TypeForm, BodyForm, ProgramForm, program_form, body_forms, seen_by, seen_in}
use Rattle.ada_program.specs.WellFormed.{finalization_of, is_access, variable_kind, object_named, IsWellFormed}
use Rattle.ada_quiet.specs.Bare.{has_bare_objects}
use Rattle.ada_quiet.proofs.FrugalAt.{operation_more}
use Rattle.ada_quiet.specs.Frugal.{is_frugal_body, thrift_of}
use Rattle.ada_quiet.specs.Idle.{makes_parts}
use Rattle.ada_quiet.specs.InUse.{may_be_frugal, operations_may_be_called, tracks_beside_none}
use Rattle.ada_meaning.specs.declared.event.Birth.{Birth}
use Rattle.ada_meaning.specs.declared.event.Birth.TheVariants.{Creation, Copy, Adjustment}
use Rattle.ada_program.specs.declared.program.Exception.{Exception}
use Rattle.ada_meaning.specs.declared.state.Id.{Id}
use Rattle.ada_meaning.specs.declared.state.Mode.TheVariants.{Running}
use Rattle.ada_meaning.specs.declared.state.Value.{Value}
use Rattle.ada_meaning.specs.declared.state.Value.TheVariants.{Names, Part}
use Rattle.ada_meaning.specs.Frame as frame
use Rattle.ada_meaning.specs.Frame.{Treatment, Treats, begins, ends, Copies, Ends, StoresRecord}
use Rattle.ada_meaning.specs.Heap.{Cell}
use Rattle.ada_meaning.specs.Law.{items_of}
use Rattle.ada_meaning.specs.State.{Activation, Master, Owned, declared, collection, record_object, storage_pool}
use Rattle.ada_meaning.specs.Step.{operating, treating}
use Rattle.ada_meaning.specs.Named.{Object, State, object_at, named}
use Rattle.ada_owners.specs.Places.{access_at}
use Rattle.ada_typed.proofs.Lying.{IsOperable}
use Rattle.ada_meaning.specs.Run.{Event}
use Rattle.ada_scopes.proofs.Components.{items_fit}
use Rattle.ada_scopes.proofs.Homes.{ItemsFit, OwnedFits}
use Rattle.ada_typed.specs.Holding.{Designates, cells_of, PartsLie}
use Rattle.ada_typed.proofs.Bodies.{seen_as}
use Rattle.ada_typed.proofs.Control as typed
use Rattle.ada_typed.proofs.Kept.{behind_call}
use Rattle.ada_typed.proofs.Overridings.{OperationFor, beginning_for, ending_for}
use Rattle.ada_sound.proofs.Ahead.{ahead_in}
use Rattle.ada_sound.proofs.Allowance.{allowance_of, body_thrifty}
use Rattle.ada_sound.proofs.Alters.{Alters}
use Rattle.ada_sound.proofs.Callers.{AreCalls, Suspension, known_in, Stands, callers_of}
use Rattle.ada_sound.proofs.FrugalControl.{Frugally, IsEnded, IsLeft, frugal_starts}
use Rattle.ada_sound.proofs.Touching.{AdjustsBy, AreAround, CoversBy, Enters, Touching, departs_by, origin}
use Rattle.ada_sound.proofs.TouchingCopies.{Entered, adjusts_free, assigned_enters, declared_enters}
use Rattle.ada_sound.proofs.Trackers.{touches_apart}
use Rattle.ada_sound.proofs.TouchingBegins.{Begun, IsAlone, alone, touching_begins}
use Rattle.ada_sound.proofs.TouchingRests.{IsStoredIn, IsEnd, assigns_by, at_start, ends_by}
use Rattle.ada_sound.proofs.Fits.{IsWithin, access_is}
use Rattle.ada_sound.proofs.AssignedParts.{treated_frees_of, IsAssignedBehind, IsStartOrEnd}
use Rattle.ada_sound.proofs.BareObjects.{operable_is_not_bare}
use Rattle.ada_sound.proofs.QuietOperations.{AdjustsCopy, MayTouch, TouchesStorage}
use Rattle.ada_sound.proofs.CalmObjects.{calm_finalize, calm_initialize}
use Rattle.ada_quiet.specs.Calm.{are_calm_in}
use Rattle.ada_sound.proofs.Items.{Houses}
use Rattle.ada_sound.proofs.FrugalUseEnds.{ends_free, ends_in_starts}
use Rattle.ada_sound.proofs.OperationsLet.{touches_let}
use Rattle.ada_sound.proofs.Invariant.{Control, CopiesBehind, CoveredIn, EndsTo, IsCopied, Known, OneAwaits, Rooms, TreatsBy, body_among, departs, departs_next, innermost, LiesAmong}
use Rattle.ada_sound.proofs.Operated.{OperatedAs}
use Rattle.ada_sound.proofs.Operating.{IsCalled, IsCalm, lets_out, WaitsFor}
use Rattle.ada_sound.proofs.OperationBegins.{formal_holds, formal_within}
use Rattle.ada_sound.proofs.OperationStarts.{calm_behind, is_awaited, live_there}
use Rattle.ada_sound.proofs.Returns.{same_types}
use Rattle.ada_sound.proofs.SparesOwn.{assigned_spares}
use Rattle.ada_sound.proofs.Grounds.{Grounds, treats_made}
use Rattle.ada_sound.proofs.Treating.{treats_in_use}
use Rattle.ada_sound.proofs.Treatments.{Begins}
use Rattle.ada_sound.proofs.WatchedBegins.{watched_begins}
use Rattle.ada_meaning.specs.declared.event.Cause.{Cause}
use Rattle.ada_meaning.specs.declared.event.Cause.TheVariants.{Leaving, Freeing, Assigning, Undoing}
use Rattle.ada_meaning.specs.Finalization.{NothingTreated}

-- An object of this type keeps it.
kept_type : (before heap : List Object) (e : Event) (o : Id) (x : Object) (access : ℕ) → Alters before e heap → object_at heap o ≡ Some x → Designates (cells_of before) access o → x.cell.access ≡ access
kept_type before heap e o x access alters found (cell, at, of) = by (object_at before o) refl (sym (slice_get-map (λ (y : Object). y.cell) before o.0) ∙ at)
  where
    by : (there : Option Object) → object_at before o ≡ there → option_map (λ (y : Object). y.cell) there ≡ Some cell → x.cell.access ≡ access
    by None is seen = absurd (cc seen)
    by (Some y) is seen =
        let z = alters.kept o y is in
        let same : z.0 ≡ x = let here = z.1 in cc (here, found) in
        let cells : y.cell ≡ cell = cc seen in
        let kept : x.cell.access ≡ y.cell.access = rw same at (z.2.0) in
        kept ∙ (ap (λ (c : Cell Value). c.access) cells ∙ of)

-- The operation of a controlled type that a treatment calls, by its number (7.6).
operation_for : (program : Program) → IsWellFormed (program_form program) → (of number : ℕ) (treatment : Treatment) → IsCalled (operations_of program.types.items of) treatment number → OperationFor (program_form program) of number
operation_for program well of number (begins by done) called = beginning_for (program_form program) program.types.items refl well.operations_fit by of number called
operation_for program well of number (ends cause) called = ending_for (program_form program) program.types.items refl well.operations_fit of number called

-- Nothing of it is left to be adjusted where something is initialized or finalized.
none_adjusts : (known : Known) (by : Treatment) (access : ℕ) (tasks : List Task) (k : Control) (rooms : Rooms) (holds : Holds) → IsStartOrEnd by → AdjustsBy known by access tasks k rooms holds
none_adjusts known (begins Creation done) access tasks k rooms holds start = tt
none_adjusts known (begins Copy done) access tasks k rooms holds start = absurd start
none_adjusts known (begins (Adjustment n) done) access tasks k rooms holds start = absurd start
none_adjusts known (ends cause) access tasks k rooms holds start = tt

-- Where an object ends behind this, nothing of it begins there.
abbrev pub IsLoneEnd : Value → Control → Type 0
IsLoneEnd v k = (w : Value) (behind : Control) → k ≡ Ends w ∷ behind → NothingBegins v behind

-- So it is behind an object that is finalized; and behind a record that is assigned to, what is copied is stored in that object (5.2).
abbrev pub IsLoneBehind : Value → Treatment → Control → Type 0
IsLoneBehind v (begins by done) k = Unit {0}
IsLoneBehind v (ends (Leaving m item)) k = IsLoneEnd v k
IsLoneBehind v (ends (Freeing number)) k = IsLoneEnd v k
IsLoneBehind v (ends (Assigning number)) k = (first t : ℕ) (behind : Control) → k ≡ Copies first t ∷ behind → IsStoredIn v behind
IsLoneBehind v (ends (Undoing number)) k = IsLoneEnd v k

-- So it is where a record alone is adjusted behind that.
stored_alone : (v : Value) (k : Control) → AdjustsAlone v k → IsStoredIn v k
stored_alone v k alone = record {
  to = alone.to;
  width = alone.width;
  rest = treating (Names alone.object) (begins (Adjustment alone.number) []) alone.tasks alone.behind;
  is = alone.is ∙ ap (λ (u : Value). StoresRecord u alone.to alone.width ∷ treating (Names alone.object) (begins (Adjustment alone.number) []) alone.tasks alone.behind) (sym alone.named);
}

-- So it is where an object ends inside another operation, behind which nothing of it begins.
pub lone_inside : (v : Value) (treatment : Treatment) (k : Control) → IsEnded treatment ⊎ IsLeft treatment → NothingBegins v k → IsLoneBehind v treatment k
lone_inside v (begins by done) k ended none = tt
lone_inside v (ends (Leaving m item)) k ended none = λ w behind is. subst (NothingBegins v) is none
lone_inside v (ends (Freeing number)) k ended none = λ w behind is. subst (NothingBegins v) is none
lone_inside v (ends (Assigning number)) k (inl ended) none = absurd ended
lone_inside v (ends (Assigning number)) k (inr left) none = absurd left
lone_inside v (ends (Undoing number)) k ended none = λ w behind is. subst (NothingBegins v) is none

-- Where an object is initialized or adjusted, nothing of another one begins.
treating_others : (u v : Value) (by : Birth) (tasks : List Task) (k : Control) → u ≢ v → NothingBegins u k → NothingBegins u (treating v (begins by []) tasks k)
treating_others u v by [] k ne none = none
treating_others u v by (task ∷ tasks) k ne none = ((λ same. ne (sym same)), none)

-- Where no operation runs, none of an object does.
none_runs_on : (v : Value) (k : Control) → NoOperationRuns k → NoOperationRunsOn v k
none_runs_on v [] none = tt
none_runs_on v (frame.Awaits w by done of part tasks ∷ k) none = let waits = none.0 in absurd (cc waits)
none_runs_on v (frame.Confines ∷ k) none = let waits = none.0 in absurd (cc waits)
none_runs_on v (f ∷ k) none = none_runs_on v k none.1

module _ (program : Program) (a : Activation Value) (rest : List (Activation Value)) (s : State) (k : Control) (v : Value) (treatment : Treatment) (tasks : List Task) (gs : List Suspension) where
  abbrev p : ProgramForm
  p = program_form program

  abbrev known : Known
  known = known_in program a.procedure gs

  -- The next task of what is treated calls such an operation.
  abbrev IsOperated : Treatment → Id → ℕ → Type 0
  IsOperated by object of = OperatedAs p.types v treatment (cells_of s.heap) k by object of

  -- The body of an operation begins.
  module _ (whole : State) (same : whole.masters ≡ s.masters) (grounds : Grounds program whole) (lone : IsLoneBehind v treatment k) (stands : Stands program gs (record s { activations = a ∷ rest }))
      (departed : departs_by treatment (departs (ahead_in p) (innermost s.masters)) k ≡ false → AreAround s.heap (OneAwaits (callers_of program gs))) where
    -- Where a record with controlled parts is assigned to, no object ends in which such a record lies.
    spares_copied : (access t : ℕ) → IsCopied known t → LiesAmong known access t → is_access known.program.types access ≡ true → assignment_frees known.implicit access t ≡ true → ⊥
    spares_copied access t (f, is, limited) (first, part, lies) accessed freed =
        let same = same_types a.procedure p in
        let found : finalization_of p.types t ≡ Some f = subst (λ (types : List TypeForm). finalization_of types t ≡ Some f) same is in
        let lie : PartsLie p.types (object_named p.types (Some access)) (Some t) first part = subst (λ (types : List TypeForm). PartsLie types (object_named types (Some access)) (Some t) first part) same lies in
        assigned_spares program grounds.well grounds.spares_own access t first part f lie found (subst (λ (types : List TypeForm). is_access types access ≡ true) same accessed) freed

    -- The record that is copied behind an assignment has controlled parts.
    copied_behind : (u : Value) (by : Treatment) (left : List Task) (j : Control) (heap : List Object) → TreatsBy known u by left j heap a.places a.operands s.masters → IsAssignedBehind p.types by j
    copied_behind u (begins by done) left j heap treats = tt
    copied_behind u (ends (Leaving m item)) left j heap treats = tt
    copied_behind u (ends (Freeing number)) left j heap treats = tt
    copied_behind u (ends (Assigning number)) left [] heap treats = tt
    copied_behind u (ends (Assigning number)) left (Copies first t ∷ j) heap ((f, found, limited), w) =
        (f, subst (λ (types : List TypeForm). finalization_of types t ≡ Some f) (same_types a.procedure p) found)
    copied_behind u (ends (Assigning number)) left (g ∷ j) heap treats = tt
    copied_behind u (ends (Undoing number)) left j heap treats = tt

    fits_here : ItemsFit known.program.types (items_of s.masters)
    fits_here =
        let fits : ItemsFit p.types (items_of whole.masters) = items_fit p whole grounds.nested in
        subst (λ (types : List TypeForm). ItemsFit types (items_of s.masters)) (sym (same_types a.procedure p)) (rw same at fits)

    -- What waits for it, by what is treated.
    module _ (may : may_be_frugal p ≡ true) (made : makes_parts p ≡ true) (o : Id) (x : Object) (heap : List Object) (named : v ≡ Names o) (found : object_at heap o ≡ Some x) (is_of : access_at heap o ≡ Some x.cell.access) (not_bare : has_bare_objects known.program.types x.cell.access ≡ false) (not_calm : are_calm_in p x.cell.access ≡ false) where
      -- The home of the object is an item for whose objects an operation may be called that touches storage.
      goes_ahead : (owned : Owned) → Houses owned x.cell.access x.cell.home.pool → OwnedFits known.program.types owned → known.ahead owned ≡ true
      goes_ahead (declared y) houses fits = absurd houses
      goes_ahead (record_object t) houses fits = refl
      goes_ahead (storage_pool declaration number) houses fits = absurd houses
      goes_ahead (collection t pool) houses fits =
          let other : are_calm_in p t ≡ false = subst (λ (access : ℕ). are_calm_in p access ≡ false) (sym houses.0) not_calm in
          rw other refl

      -- An operation may be called for it that touches storage.
      touches : known.touches x.cell.access ≡ true
      touches = rw (may, made, not_calm) refl

      -- What has departed has an operation around it.
      abbrev Around : Type 0
      Around = AreAround heap (OneAwaits (callers_of program gs))

      -- Such collections of the master are left.
      abbrev departing : Bool
      departing = departs (ahead_in p) (innermost s.masters)

      ends_for : (cause : Cause) → IsEnd cause → IsLoneEnd v k → (departs_next departing k ≡ false → Around) → EndsTo known (Names o) k heap a.places s.masters → Enters known (ends cause) o x k heap a.places a.operands s.masters
      ends_for cause end alone around treats =
          ends_by known o x heap found is_of a.places a.operands s.masters not_bare fits_here goes_ahead touches (ends_in_starts p) cause end k treats
          (λ w behind at. subst (λ (u : Value). NothingBegins u behind) named (alone w behind at)) around

      enters : (by : Treatment) (left : List Task) → IsLoneBehind v by k → IsStartOrEnd by → (departs_by by departing k ≡ false → Around) → TreatsBy known (Names o) by left k heap a.places a.operands s.masters → Enters known by o x k heap a.places a.operands s.masters
      enters (begins Creation done) left alone may' around treats = at_start known o x heap found is_of a.places a.operands s.masters not_bare fits_here touches (around refl) done left k treats
      enters (begins Copy done) left alone may' around treats = absurd may'
      enters (begins (Adjustment n) done) left alone may' around treats = absurd may'
      enters (ends (Leaving m item)) left alone may' around treats = ends_for (Leaving m item) tt alone around treats
      enters (ends (Freeing number)) left alone may' around treats = ends_for (Freeing number) tt alone around treats
      enters (ends (Assigning number)) left alone may' around treats =
          assigns_by known o x heap found is_of a.places a.operands s.masters not_bare fits_here number spares_copied k treats
          (λ first t behind at. subst (λ (u : Value). IsStoredIn u behind) named (alone first t behind at)) around
      enters (ends (Undoing number)) left alone may' around treats = ends_for (Undoing number) tt alone around treats

    -- The object is not calm: for calm ones an Initialize is plain, and a Finalize quiet.
    other_object : (access of part number : ℕ) (b : BodyForm) (by : Treatment) → IsOperable p.types access of part → IsStartOrEnd by → IsCalled (operations_of program.types.items of) by number
        → slice_get (body_forms program) number ≡ Some b → TouchesStorage p by b → are_calm_in p access ≡ false
    other_object access of part number b by operable may called there touches = go (are_calm_in p access) refl by may called touches
      where
        go : (calm' : Bool) → are_calm_in p access ≡ calm' → (treated : Treatment) → IsStartOrEnd treated → IsCalled (operations_of program.types.items of) treated number
            → TouchesStorage p treated b → are_calm_in p access ≡ false
        go false none treated may' called' touches' = none
        go true is_calm (begins Creation done) may' called' touches' =
            let plain = calm_initialize program grounds.well access of part number b operable is_calm called' there in absurd (cc (plain, touches'))
        go true is_calm (begins Copy done) may' called' touches' = absurd may'
        go true is_calm (begins (Adjustment n) done) may' called' touches' = absurd may'
        go true is_calm (ends cause) may' called' touches' =
            let quiet = calm_finalize program grounds.well access of part number b operable is_calm called' there in absurd (cc (quiet, touches'))

    -- What the body may free that finalizes the object, the end of that may free; and what the body of an Adjust may free, the adjustment may.
    covers_by : (access of part number : ℕ) (b : BodyForm) (by : Treatment) → IsOperable p.types access of part
        → IsCalled (operations_of program.types.items of) by number → slice_get (body_forms program) number ≡ Some b → (t : ℕ) → CoveredIn (implicit_of p) (seen_in (Some number) p) t
        → CoversBy p by access t
    covers_by access of part number b (begins Creation done) operable called there t covered = tt
    covers_by access of part number b (begins Copy done) operable called there t covered = adjusts_free program grounds.well access of part number b operable called there t covered
    covers_by access of part number b (begins (Adjustment n) done) operable called there t covered = adjusts_free program grounds.well access of part number b operable called there t covered
    covers_by access of part number b (ends cause) operable called there t covered = ends_free program grounds.well access of part number b operable called there t covered

    -- What waits for the body where it begins.
    module _ (may : may_be_frugal p ≡ true) (made : makes_parts p ≡ true) (e : Event) (after : State) (c : Begins known a rest s program.types.items (body_forms program) k IsOperated e after) (stores : TouchesStorage p c.treatment c.b) where
      -- A record of the type of the operation lies in the object.
      of_type : c.x.cell.access ≡ c.operated.1.0
      of_type = kept_type s.heap c.heap e c.o c.x c.operated.1.0 c.alters c.found c.operated.1.2

      operable_there : IsOperable p.types c.x.cell.access c.of c.operated.1.1
      operable_there = rw of_type (c.operated.1.3)

      parted : has_bare_objects known.program.types c.x.cell.access ≡ false
      parted =
          subst (λ (types : List TypeForm). has_bare_objects types c.x.cell.access ≡ false) (sym (same_types a.procedure p))
          (rw of_type (operable_is_not_bare program grounds.well c.operated.1.0 c.of c.operated.1.1 c.operated.1.3))

      abbrev EnteredAs : Treatment → Type 0
      EnteredAs by = Entered program known by c.number c.o c.x k c.heap a.places a.operands s.masters c.tasks

      -- What has departed has an operation around it, but where such collections are left.
      around_by : (by : Treatment) → c.treatment ≡ by → departs_by by (departs (ahead_in p) (innermost s.masters)) k ≡ false → AreAround c.heap (OneAwaits (callers_of program gs))
      around_by by is none q y gone =
          let before = c.still q y gone in
          departed (subst (λ (way : Treatment). departs_by way (departs (ahead_in p) (innermost s.masters)) k ≡ false) (sym is ∙ c.operated.0) none) q before.0 before.1

      -- It initializes or finalizes.
      starts_or_ends : IsStartOrEnd c.treatment → EnteredAs c.treatment
      starts_or_ends start =
          let not_calm : are_calm_in p c.x.cell.access ≡ false = rw of_type (other_object c.operated.1.0 c.of c.operated.1.1 c.number c.b c.treatment c.operated.1.3 start c.called c.there stores) in
          let at = enters may made c.o c.x c.heap c.operated.3 c.found (access_is c.heap c.o c.x c.found (live_there c.x.stage c.live)) parted not_calm c.treatment c.tasks (rw c.operated.0 lone) start (around_by c.treatment refl) c.treats in
          record {
            at = at;
            adjusts = none_adjusts known c.treatment c.x.cell.access c.tasks k at.rooms at.holds start;
            frees = λ t covered.
                at.includes t (treated_frees_of program grounds.well c.x.cell.access c.of c.operated.1.1 c.number c.b operable_there c.treatment k (rw (c.operated.0) (c.operated.2))
                (copied_behind (Names c.o) c.treatment c.tasks k c.heap c.treats) start c.called c.there t covered);
          }

      -- Or it adjusts a part of a copy.
      adjusts_copy : tracks_beside_none p ≡ true → (by : Treatment) → c.treatment ≡ by → (copies : AdjustsCopy by) → EnteredAs by
      adjusts_copy beside (begins Creation done) is copies = absurd copies
      adjusts_copy beside (begins Copy done) is copies =
          let part = c.adjusts Copy done is tt in
          declared_enters program grounds.well beside a.procedure gs c.o c.x c.heap c.found a.places a.operands s.masters k parted c.of part.0 c.tasks (c.plain Copy done is tt)
          c.number c.b c.there (subst (λ (way : Treatment). IsCalled (operations_of program.types.items c.of) way c.number) is c.called)
          (subst (λ (way : Treatment). TouchesStorage p way c.b) is stores) part.1 (around_by (begins Copy done) is refl) done
      adjusts_copy beside (begins (Adjustment n) done) is copies =
          let part = c.adjusts (Adjustment n) done is tt in
          assigned_enters program grounds.well beside a.procedure gs c.o c.x c.heap c.found a.places a.operands s.masters k parted c.of part.0 c.tasks (c.plain (Adjustment n) done is tt)
          c.number c.b c.there (subst (λ (way : Treatment). IsCalled (operations_of program.types.items c.of) way c.number) is c.called)
          (subst (λ (way : Treatment). TouchesStorage p way c.b) is stores) part.1 (around_by (begins (Adjustment n) done) is refl) n done
      adjusts_copy beside (ends cause) is copies = absurd copies

      entered_by : (by : Treatment) → c.treatment ≡ by → MayTouch p c.number by → EnteredAs c.treatment
      entered_by (begins Creation done) is touches = starts_or_ends (subst IsStartOrEnd (sym is) tt)
      entered_by (begins Copy done) is touches = subst EnteredAs (sym is) (adjusts_copy touches.0.0 (begins Copy done) is tt)
      entered_by (begins (Adjustment n) done) is touches = subst EnteredAs (sym is) (adjusts_copy touches.0.0 (begins (Adjustment n) done) is tt)
      entered_by (ends cause) is touches = starts_or_ends (subst IsStartOrEnd (sym is) tt)

      -- Whatever it does.
      entered_there : MayTouch p c.number c.treatment → EnteredAs c.treatment
      entered_there touches = entered_by c.treatment refl touches

    -- So the body begins, for this object, in front of what is behind its treatment.
    begins_so : operations_may_be_called p ≡ true → makes_parts p ≡ true → (e : Event) (after : State) (c : Begins known a rest s program.types.items (body_forms program) k IsOperated e after) → MayTouch p c.number c.treatment → may_be_frugal p ≡ true → is_frugal_body (thrift_of p) c.b ≡ true → TouchesStorage p c.treatment c.b
        → typed.Typed p after → (begun : Begun program gs c.treatment c.behind s.masters after) × (begun.pause.object ≡ c.o) × (begun.pause.after ≡ k)
    begins_so uses made e after c touches may frugal stores typing =
        let operated = c.operated.1 in
        let operable : IsOperable p.types c.x.cell.access c.of operated.1 = operable_there may made e after c stores in
        let entered : Entered program known c.treatment c.number c.o c.x k c.heap a.places a.operands s.masters c.tasks = entered_there may made e after c stores touches in
        let at : Enters known c.treatment c.o c.x k c.heap a.places a.operands s.masters = entered.at in
        let operation = operation_for program grounds.well c.of c.number c.treatment c.called in
        let body : operation.body ≡ c.b = let found = operation.there in let there = c.there in cc (found, there) in
        let single : IsAlone c.b = alone c.b operation.object (rw body at operation.formals) in
        let waits : WaitsFor p.types c.o c.of c.treatment c.tasks k c.behind = subst (λ (types : List TypeForm). WaitsFor types c.o c.of c.treatment c.tasks k c.behind) (same_types a.procedure p) c.waits in
        let begun = operating named c.number c.b (Part c.o c.place) c.behind (record s { activations = a ∷ rest; heap = c.heap; mode = Running; control = k }) in
        let now : typed.Typed p begun = rw c.is at typing in
        let inside : typed.TypedIn (seen_in (Some c.number) p) begun = now.inside in
        let own : typed.TypedIn (seen_by c.number c.b p) begun = rw (seen_as p c.number c.b c.there) at inside in
        let holds = formal_holds program c.number c.b c.o c.place begun (_, refl) c.x c.found own in
        let within : IsWithin p.types (variable_kind c.b.variables 0) c.x.cell.access c.place.component = formal_within p.types (variable_kind c.b.variables 0) c.o c.x.cell.access c.place single.object single.is (rw single.is at holds) in
        let lets : (raised : Exception) → body_among (implicit_of p) (seen_in (Some c.number) p) raised ≡ true → lets_out (implicit_of p) c.x.cell.access c.treatment raised ≡ true =
        touches_let program grounds.well grounds.lets_nothing_out made c.x.cell.access c.of operated.1 c.number c.b operable c.treatment touches c.called c.there in
        rw c.is (touching_begins program grounds.well grounds.obeys c.number (touches_apart program grounds.obeys.0 c.of c.number c.treatment touches c.called) c.b c.there single a rest gs s k c.o c.x c.heap c.found (live_there c.x.stage c.live) c.place within c.treatment frugal grounds.spares_own at c.behind entered.frees
        (covers_by c.x.cell.access c.of operated.1 c.number c.b c.treatment operable c.called c.there) lets e c.of c.tasks entered.adjusts c.alters waits (is_awaited p.types c.o c.of c.treatment c.tasks k c.behind waits) stands
        (watched_begins program grounds.well uses a rest gs s c.treatment at.watch c.o c.x.cell.access c.of operated.1 c.number c.b c.place c.behind c.heap operable c.called c.there frugal at.spared at.stored))

    -- That is known of it, whatever runs behind it.
    pub touching_starts : operations_may_be_called p ≡ true → makes_parts p ≡ true → (e : Event) (after : State) (c : Begins known a rest s program.types.items (body_forms program) k IsOperated e after) → MayTouch p c.number c.treatment → may_be_frugal p ≡ true → is_frugal_body (thrift_of p) c.b ≡ true → TouchesStorage p c.treatment c.b
        → typed.Typed p after → Begun program gs c.treatment c.behind s.masters after
    touching_starts uses made e after c touches may frugal stores typing = (begins_so uses made e after c touches may frugal stores typing).0

  -- Where no operation runs, nothing is treated behind what is treated, but a record that is assigned to.
  module _ (whole : State) (is : whole.control ≡ Treats v treatment tasks ∷ k) (grounds : Grounds program whole) (still : NoOperationRuns whole.control) where
    -- The control, by what is treated.
    control_by : (by : Treatment) → by ≡ treatment → whole.control ≡ Treats v by tasks ∷ k
    control_by by one = is ∙ ap (λ (t : Treatment). Treats v t tasks ∷ k) (sym one)

    -- Nothing is treated behind the end of an object.
    ended_alone : (cause : Cause) → ends cause ≡ treatment → (w : Value) (behind : Control) → k ≡ Ends w ∷ behind → NothingTreated behind
    ended_alone cause one w behind at =
        grounds.untreated_end still v w cause tasks behind (control_by (ends cause) one ∙ ap (λ (j : Control). Treats v (ends cause) tasks ∷ j) at)

    -- Behind a record that is assigned to, that record alone is adjusted.
    assigned_alone : (number : ℕ) → ends (Assigning number) ≡ treatment → (first t : ℕ) (behind : Control) → k ≡ Copies first t ∷ behind → AdjustsAlone v behind
    assigned_alone number one first t behind at =
        grounds.adjusts_alone still v (Assigning number) tasks first t behind
        (control_by (ends (Assigning number)) one ∙ ap (λ (j : Control). Treats v (ends (Assigning number)) tasks ∷ j) at)

    lone_by : (by : Treatment) → by ≡ treatment → IsLoneBehind v by k
    lone_by (begins by done) one = tt
    lone_by (ends (Leaving m item)) one = λ w behind at. nothing_begins v behind (ended_alone (Leaving m item) one w behind at)
    lone_by (ends (Freeing number)) one = λ w behind at. nothing_begins v behind (ended_alone (Freeing number) one w behind at)
    lone_by (ends (Assigning number)) one = λ first t behind at. stored_alone v behind (assigned_alone number one first t behind at)
    lone_by (ends (Undoing number)) one = λ w behind at. nothing_begins v behind (ended_alone (Undoing number) one w behind at)

    -- So it is, by what is treated.
    pub lone_outermost : IsLoneBehind v treatment k
    lone_outermost = lone_by treatment refl

    -- Nothing of another object begins behind that.
    module _ (heap : List Object) (places operands : List Value) (masters : List Master) (u : Value) (other : u ≢ v) where
      ended_others : (cause : Cause) → ends cause ≡ treatment → (j : Control) → k ≡ j → EndsTo known v j heap places masters → NothingBegins u j
      ended_others cause one [] at treats = absurd treats
      ended_others cause one (Ends w ∷ j) at treats = nothing_begins u j (ended_alone cause one w j at)
      ended_others cause one (f ∷ j) at treats = absurd treats

      assigned_others : (number : ℕ) → ends (Assigning number) ≡ treatment → (j : Control) → k ≡ j → CopiesBehind known j heap places operands masters → NothingBegins u j
      assigned_others number one [] at treats = absurd treats
      assigned_others number one (Copies first t ∷ j) at treats =
          let alone = assigned_alone number one first t j at in
          subst (NothingBegins u) (sym alone.is)
          (treating_others u (Names alone.object) (Adjustment alone.number) alone.tasks alone.behind (λ same. other (same ∙ sym alone.named)) (nothing_begins u alone.behind alone.untreated))
      assigned_others number one (f ∷ j) at treats = absurd treats

      others_by : (by : Treatment) (left : List Task) → by ≡ treatment → TreatsBy known v by left k heap places operands masters → NothingBegins u k
      others_by (begins birth done) left one treats = nothing_begins u k (grounds.untreated_start still v birth done tasks k (control_by (begins birth done) one))
      others_by (ends (Leaving m item)) left one treats = ended_others (Leaving m item) one k refl treats
      others_by (ends (Freeing number)) left one treats = ended_others (Freeing number) one k refl treats
      others_by (ends (Assigning number)) left one treats = assigned_others number one k refl treats
      others_by (ends (Undoing number)) left one treats = ended_others (Undoing number) one k refl treats

    -- An operation begins there.
    module _ (same : whole.masters ≡ s.masters) (calm : IsCalm (behind_call k)) (settled : AreCalls gs) (stands : Stands program gs (record s { activations = a ∷ rest }))
        (departed : departs_by treatment (departs (ahead_in p) (innermost s.masters)) k ≡ false → AreAround s.heap (OneAwaits (callers_of program gs)))
        (e : Event) (after : State) (c : Begins known a rest s program.types.items (body_forms program) k IsOperated e after) (touches : MayTouch p c.number c.treatment) where
      -- Nothing begins of another object than the one that it is called for.
      pub untreated_outermost : (u : Value) → u ≢ Names c.o → NothingBegins u k
      untreated_outermost u other =
          others_by c.heap a.places a.operands s.masters u (λ is. other (is ∙ c.operated.3)) c.treatment c.tasks c.operated.0
          (subst (λ (w : Value). TreatsBy known w c.treatment c.tasks k c.heap a.places a.operands s.masters) (sym c.operated.3) c.treats)

      -- Its body runs, as the outermost one.
      pub touching_outermost : may_be_frugal p ≡ true → is_frugal_body (thrift_of p) c.b ≡ true → TouchesStorage p c.treatment c.b → typed.Typed p after → Touching program after
      touching_outermost may frugal stores typing =
          let started = begins_so whole same grounds lone_outermost stands departed (treats_in_use program whole grounds (Treats v treatment tasks ∷ k) is tt) (treats_made program whole grounds v treatment tasks k is) e after c touches may frugal stores typing in
          let begun = started.0 in
          let waits : WaitsFor p.types c.o c.of c.treatment c.tasks k c.behind = subst (λ (types : List TypeForm). WaitsFor types c.o c.of c.treatment c.tasks k c.behind) (same_types a.procedure p) c.waits in
          let before = record s { activations = a ∷ rest; heap = c.heap; mode = Running; control = k } in
          let runs : Frugally (allowance_of p) s.masters c.behind [] after =
          rw c.is (frugal_starts (allowance_of p) c.number c.b (body_thrifty p c.b (operation_more p c.b frugal)) (Part c.o c.place) c.behind (is_awaited p.types c.o c.of c.treatment c.tasks k c.behind waits) before) in
          record {
            suspensions = origin program 0 after begun.pause ∷ gs;
            ready = begun.ready;
            stands = begun.stands;
            within = record {
              inner = [];
              outermost = begun.pause;
              are = ap (λ (others : List Suspension). origin program 0 after begun.pause ∷ others) (sym begun.suspensions);
              within = begun.runs;
              frugal = rw (begun.is_lower, begun.is_behind) runs;
              untreated = λ u other. subst (NothingBegins u) (sym started.2) (untreated_outermost u (λ same. other (same ∙ ap Names (sym started.1))));
              alone = subst (NoOperationRunsOn (Names begun.pause.object)) (sym started.2) (none_runs_on (Names begun.pause.object) k (subst NoOperationRuns is still).1);
              calm = rw begun.is_behind (calm_behind p.types c.o c.of c.treatment c.tasks k c.behind waits calm);
              settled = rw begun.suspensions settled;
              may = may;
            };
          }
