-- The body of an operation runs that touches storage (7.6, 7.6.1, 13.11.2): an Initialize of an object that a declaration or an allocator creates, an Adjust of
-- a part of a copy, where no Adjust tracks, or a Finalize of one at the leaving of its master, or where a variable or a component is freed that names it, or another record is assigned to it. What holds
-- there, and what is kept of all that waits for it.

use Rattle.std.proofs.Common.{◌≡◌, ◌≢◌, ℕ, ◌≤◌, true, false, List, [], ◌∷◌, ◌++◌, ◌⊎◌, Option, drop, length, suc, take, not, ◌&&◌}
use Rattle.std.specs.Prelude.{Bool, Some, None, ◌==◌}
use Rattle.std.specs.List.{slice_get, slice_set, list_any}
use Rattle.ada_parts.specs.Task.{Task}
use Rattle.ada_program.specs.declared.program.Exception.{Exception}
use Rattle.ada_quiet.specs.Bare.{has_bare_objects}
use Rattle.ada_quiet.specs.InUse.{may_be_frugal}
use Rattle.ada_program.specs.declared.program.Program.{Program}
use Rattle.ada_program.specs.ProgramForm.{TypeForm, ProgramForm, program_form, seen_in}
use Rattle.ada_program.specs.WellFormed.{is_access, variable_kind, reached_components}
use Rattle.ada_deeds.specs.Implicit.{implicit_of}
use Rattle.ada_effects.specs.Effects.{Implicit, assignment_frees}
use Rattle.ada_flow.specs.declared.rule.Hold.TheVariants as hold
use Rattle.ada_flow.specs.Flow.{Holds, Keeping, hold_at, is_owning}
use Rattle.ada_flow.specs.Tracking.{no_tracks}
use Rattle.ada_meaning.specs.declared.event.Birth.{Birth}
use Rattle.ada_meaning.specs.declared.event.Birth.TheVariants.{Creation, Copy, Adjustment}
use Rattle.ada_meaning.specs.declared.event.Cause.TheVariants.{Leaving, Freeing, Assigning, Undoing}
use Rattle.ada_meaning.specs.declared.state.Id.{Id}
use Rattle.ada_meaning.specs.declared.state.Mode.{Mode}
use Rattle.ada_meaning.specs.declared.state.Place.{Place}
use Rattle.ada_meaning.specs.declared.state.Value.{Value}
use Rattle.ada_meaning.specs.declared.state.Value.TheVariants.{Names, Part, Null, Scalar}
use Rattle.ada_meaning.specs.Frame.{Treatment, begins, ends, Leaves, Ends, GivesBack, Clears, ClearsIn, Resumes, StoresRecord, Copies}
use Rattle.ada_meaning.specs.Heap.{Home}
use Rattle.ada_meaning.specs.State.{Master, height}
use Rattle.ada_meaning.specs.Named.{Object, State, object_at}
use Rattle.ada_typed.proofs.Kept.{behind_call}
use Rattle.ada_sound.proofs.Bodies.{IsBody}
use Rattle.ada_sound.proofs.Callers.{AreCalls, IsCall, Suspension, known_in, Stands}
use Rattle.ada_sound.proofs.Fits.{Fit, Outsiders, IsPlace, IsRelied, IsSaid, IsUnreferred, IsOwnedOutside, component_access, none_spared, outer_hold, outer_value, place_at, Reference, IsReferred}
use Rattle.ada_sound.proofs.Allowance.{Allowance, allowance_of}
use Rattle.ada_sound.proofs.CopiedOwners.{CopyLeft, owners_left}
use Rattle.ada_sound.proofs.FrugalControl.{FrugalOperated, Frugally, IsInside, operated_in}
use Rattle.ada_sound.proofs.Held.{FreeIf, holder_if}
use Rattle.ada_sound.proofs.Invariant.{AdjustsAside, CopiesElsewhere, SparesHolder, body_among, CoveredIn, Control, Rooms, Roomed, GoesTo, MayAwait, RoomFor, RunsOn, Known, IsNewest, Ready, Spares, StartsTo, Unaliased, departs, departs_next, below, innermost, outers, BeginsWell, CameOut, To, By, ways, LiesBelow, OneAwaits, AssignsWell, IsCopied, LiesAmong, AdjustedBehind, IsCovered, EndsWellBy}
use Rattle.ada_sound.proofs.Operating.{WaitsFor, IsCalm, lets_out}
use Rattle.ada_sound.proofs.Stored.{HasDeparted, IsUnder, Stored}
use Rattle.ada_sound.specs.Agreement.{running_procedure}
use Rattle.ada_finalized.specs.Law.{NoOperationRunsOn, NothingBegins}
use Rattle.ada_meaning.specs.declared.event.Cause.{Cause}
use Rattle.ada_meaning.specs.Step.{first_or, operands_of}
use Rattle.ada_owners.specs.Places.{access_at, is_there}
use Rattle.ada_reaching.specs.Apart.{Apart}
use Rattle.ada_reaching.specs.Law.{AreApart}
use Rattle.ada_reaching.specs.Reaching.{IsReaching}
use Rattle.ada_owners.specs.Reliance.{Owns}
use Rattle.ada_program.specs.declared.program.ComponentKind.{ComponentKind}

-- Neither a variable of the running activation nor one of a suspended one is relied on to name this object.
pub record IsNamedNowhere (outer : Outsiders) (places : List Value) (holds : Holds) (o : Id) : Type 0 where
  pub here : (x : ℕ) → IsRelied (hold_at holds x) → place_at places x ≡ Names o → ⊥
  pub elsewhere : (d x : ℕ) → IsRelied (outer_hold (slice_get outer.suspended d) x) → outer_value (slice_get outer.suspended d) x ≡ Names o → ⊥

-- What is behind the finalization of an object whose master is left: its end, and then what is left of the master. None of that changes while a Finalize of
-- the object runs, whatever is freed and moved then.
pub record Resting (known : Known) (object : Id) (home : Home) (places : List Value) (after : Control) (lower : List Master) (rooms : Rooms) (holds : Holds) : Type 0 where
  pub master : ℕ
  pub item : ℕ
  pub mode : Mode
  pub rest : Control
  pub is : after ≡ Ends (Names object) ∷ GivesBack (Names object) (Leaving master item) home.pool ∷ Leaves mode ∷ rest
  pub own_item : item ≡ home.item
  pub newest : IsNewest home.item (innermost lower)
  pub stays_so : departs known.ahead (innermost lower) ≡ false
  pub runs : RunsOn known (Leaves mode ∷ rest) rooms holds
  pub nowhere : IsNamedNowhere (outers known) places holds object
  pub unreferred : IsUnreferred (outers known) object
  pub untreated : NothingBegins (Names object) rest

-- What is behind the initialization of a record object that a declaration creates, whose variable owns it, or it is held: what is left goes on, and where an
-- exception comes out, it does so without the variable.
pub record Starting (known : Known) (held : Bool) (object : Id) (access : ℕ) (places : List Value) (after : Control) (rooms : Rooms) (holds : Holds) : Type 0 where
  pub x : ℕ
  pub owner : (held ≡ true) ⊎ (Owns (hold_at holds x) × (place_at places x ≡ Names object))
  pub runs : RunsOn known after rooms holds
  pub undone : StartsTo known access after rooms (slice_set holds x hold.Lost)
  pub well : BeginsWell known access holds
  pub nowhere : IsNamedNowhere (outers known) places (slice_set holds x hold.Lost) object
  pub unreferred : IsUnreferred (outers known) object

-- The object whose component waits for the name of a new one is among those to which the activation that waits refers, so that it is there still behind the
-- body.
abbrev pub AwaitsAmong : Known → (also : List Reference) → (access : ℕ) → Value → (c : ℕ) → Type 0
AwaitsAmong known also access Null c = ⊥
AwaitsAmong known also access (Names o) c = (t : ℕ) × IsReferred also o t × MayAwait known access o c t
AwaitsAmong known also access (Scalar v) c = ⊥
AwaitsAmong known also access (Part o first) c = ⊥

-- What is behind the initialization of an object that an allocator made: a variable or a component gets its name, and then what is left goes on; where an
-- exception comes out, it does so without the object (4.8, 7.6). The object is held until then.
pub record Naming (known : Known) (held : Bool) (object : Id) (access : ℕ) (places operands : List Value) (also : List Reference) (after : Control) (rooms : Rooms) (holds : Holds) : Type 0 where
  pub is_held : held ≡ true
  pub named : first_or Null operands ≡ Names object
  pub room : RoomFor after rooms
  pub to : GoesTo known (AwaitsAmong known also access) access after rooms holds
  pub undone : StartsTo known access after rooms holds
  pub well : BeginsWell known access holds
  pub nowhere : IsNamedNowhere (outers known) places holds object
  pub unreferred : IsUnreferred (outers known) object

-- What is behind the finalization of a part of an object out of whose initialization an exception came: the end of the object, and then the exception goes on.
pub record Undoes (known : Known) (object : Id) (access : ℕ) (home : Home) (places : List Value) (after : Control) (rooms : Rooms) (holds : Holds) : Type 0 where
  pub number : ℕ
  pub mode : Mode
  pub rest : Control
  pub is : after ≡ Ends (Names object) ∷ GivesBack (Names object) (Undoing number) home.pool ∷ Resumes mode ∷ rest
  pub came : CameOut known access mode
  pub runs : To (By mode (ways known rest rooms)) holds
  pub well : BeginsWell known access holds
  pub nowhere : IsNamedNowhere (outers known) places holds object
  pub unreferred : IsUnreferred (outers known) object
  pub untreated : NothingBegins (Names object) rest

-- What is behind the finalization of an object that a variable names which is freed: the end of the object, and then the variable becomes null. It names the
-- object still while a Finalize of that runs, and counts as lost then; once it is null, what is known of it is known again.
pub record Empties (known : Known) (object : Id) (access : ℕ) (home : Home) (places : List Value) (after : Control) (rooms : Rooms) (holds : Holds) : Type 0 where
  pub number : ℕ
  pub x : ℕ
  pub rest : Control
  pub before : Holds
  pub is : after ≡ Ends (Names object) ∷ GivesBack (Names object) (Freeing number) home.pool ∷ Clears x ∷ rest
  pub lost : holds ≡ slice_set before x hold.Lost
  pub runs : RunsOn known rest rooms before
  pub well : EndsWellBy known access before
  pub covered : IsCovered known.implicit known.program (Freeing number) access
  pub said : IsSaid (place_at (outers known).given x) (hold_at before x) Null
  pub fits : hold_at before x ≢ hold.Lost → IsPlace known.program.types (outers known).referenced (variable_kind known.program.variables x) Null
  pub nowhere : IsNamedNowhere (outers known) (slice_set places x Null) before object
  pub unreferred : IsUnreferred (outers known) object
  pub untreated : NothingBegins (Names object) rest

-- The object in which a component lies that is freed, as it is: it stays so while operations are called for what the component names.
pub record Watch : Type 0 where
  pub holder : Id
  pub is : Object

-- Is an object the one that is watched, if there is one?
abbrev pub is_watched : Option Watch → Id → Bool
is_watched None o = false
is_watched (Some w) o = w.holder.0 == o.0

-- So it is with its type, if that is an access type.
abbrev pub watches : List TypeForm → Option Watch → (access : ℕ) → Bool
watches types None t = false
watches types (Some w) t = is_access types w.is.cell.access && (w.is.cell.access == t)

-- Else it is a record object that is declared, which no access value names, and no variable or operand of the bodies that are called.
abbrev pub is_unnamed : List TypeForm → Option Watch → Id → Bool
is_unnamed types None o = false
is_unnamed types (Some w) o = not (is_access types w.is.cell.access) && is_watched (Some w) o

-- What is behind the finalization of an object that a component names which is freed: the end of the object, and then the component becomes null. It owns the
-- object still while a Finalize of that runs, and lies in the object that is watched.
pub record Releases (known : Known) (watch : Option Watch) (object : Id) (access : ℕ) (home : Home) (places : List Value) (after : Control) (rooms : Rooms) (holds : Holds) : Type 0 where
  pub number : ℕ
  pub c : ℕ
  pub rest : Control
  pub w : Watch
  pub watched : watch ≡ Some w
  pub is : after ≡ Ends (Names object) ∷ GivesBack (Names object) (Freeing number) home.pool ∷ ClearsIn (Names w.holder) c ∷ rest
  pub other : w.holder ≢ object
  pub there : is_there w.is.stage ≡ true
  pub of_type : component_access known.program.types w.is c ≡ Some access
  pub names : slice_get w.is.cell.values c ≡ Some (Names object)
  pub spared : SparesHolder known access w.is.cell.access
  pub runs : RunsOn known rest rooms holds
  pub well : EndsWellBy known access holds
  pub covered : IsCovered known.implicit known.program (Freeing number) access
  pub nowhere : IsNamedNowhere (outers known) places holds object
  pub unreferred : IsUnreferred (outers known) object
  pub untreated : NothingBegins (Names object) rest

-- What is behind the finalization of an object that ceases to exist then.
abbrev pub RestsAtEnd : Known → (object : Id) → (access : ℕ) → Home → (places : List Value) → (after : Control) → (lower : List Master) → Rooms → Holds → Type 0
RestsAtEnd known object access home places after lower rooms holds =
    Resting known object home places after lower rooms holds
    ⊎ (Undoes known object access home places after rooms holds ⊎ Empties known object access home places after rooms holds)

-- The components of a record of this type in the object get those of another one, which are Integers and Booleans, or Adjusts see to them, and then what is
-- left goes on (5.2).
abbrev pub StoresInto : Known → (object : Id) → (access record_type : ℕ) → Control → Rooms → Holds → Type 0
StoresInto known object access t [] rooms holds = ⊥
StoresInto known object access t (StoresRecord v first count ∷ k) rooms holds =
    (v ≡ Names object)
    × ((((components : List ComponentKind) → reached_components known.program.types access ≡ Some components → list_any is_owning (take count (drop first components)) ≡ false)
    × To (RunsOn known k rooms) holds)
    ⊎ AdjustedBehind known (Names object) access t first count k rooms holds)
StoresInto known object access t (f ∷ k) rooms holds = ⊥

-- What is behind the finalization of the value of a record that is assigned to (5.2, 7.6): another record of its type is copied to it, to whose object the
-- activation that waits refers, too.
pub record Overwrites (known : Known) (object : Id) (access : ℕ) (operands : List Value) (also : List Reference) (after : Control) (rooms : Rooms) (holds : Holds) : Type 0 where
  pub first : ℕ
  pub record_type : ℕ
  pub stores : Control
  pub is : after ≡ Copies first record_type ∷ stores
  pub copied : IsCopied known record_type
  pub source : Reference
  pub named : first_or Null operands ≡ Names source.object
  pub refers : also ≡ source ∷ []
  pub lies : LiesAmong known source.access record_type
  pub elsewhere : CopiesElsewhere known.program.types record_type first (Names source.object) stores
  pub into : StoresInto known object access record_type stores rooms holds
  pub well : AssignsWell known record_type holds

-- What is behind the finalization of an object whose collection goes, for whose objects such operations may be called: its end, and then what is left of the
-- master. Components may name it.
pub record Departs (known : Known) (object : Id) (home : Home) (after : Control) (lower : List Master) (rooms : Rooms) (holds : Holds) : Type 0 where
  pub master : ℕ
  pub item : ℕ
  pub mode : Mode
  pub rest : Control
  pub is : after ≡ Ends (Names object) ∷ GivesBack (Names object) (Leaving master item) home.pool ∷ Leaves mode ∷ rest
  pub own_item : item ≡ home.item
  pub newest : IsNewest home.item (innermost lower)
  pub departs_so : departs known.ahead (innermost lower) ≡ true
  pub runs : RunsOn known (Leaves mode ∷ rest) rooms holds
  pub unreferred : IsUnreferred (outers known) object
  pub untreated : NothingBegins (Names object) rest

-- What is behind the finalization of an object that ceases to exist then, by who owns it: it is held; or a component owns it, which is freed; or it goes with
-- its collection, whoever owns it.
abbrev pub RestsAsOwned : Known → (held : Bool) → (watch : Option Watch) → (object : Id) → (access : ℕ) → Home → (places : List Value) → (after : Control) → (lower : List Master) → Rooms → Holds → Type 0
RestsAsOwned known held watch object access home places after lower rooms holds =
    ((held ≡ true) × RestsAtEnd known object access home places after lower rooms holds)
    ⊎ (Releases known watch object access home places after rooms holds ⊎ ((held ≡ false) × Departs known object home after lower rooms holds))

-- What is behind a finalization, by its cause.
abbrev pub RestsBy : Known → Cause → (held : Bool) → (watch : Option Watch) → (object : Id) → (access : ℕ) → Home → (places operands : List Value) → (also : List Reference) → (after : Control) → (lower : List Master) → Rooms → Holds → Type 0
RestsBy known (Leaving m item) held watch object access home places operands also after lower rooms holds =
    (also ≡ []) × RestsAsOwned known held watch object access home places after lower rooms holds
RestsBy known (Freeing number) held watch object access home places operands also after lower rooms holds =
    (also ≡ []) × RestsAsOwned known held watch object access home places after lower rooms holds
RestsBy known (Assigning number) held watch object access home places operands also after lower rooms holds = Overwrites known object access operands also after rooms holds
RestsBy known (Undoing number) held watch object access home places operands also after lower rooms holds =
    (also ≡ []) × RestsAsOwned known held watch object access home places after lower rooms holds

-- What is behind a body that begins a part of the object: a new one, or a copy, which stays as it is.
abbrev pub BeginsBy : Known → Birth → (held : Bool) → (object : Id) → (access : ℕ) → (places operands : List Value) → (also : List Reference) → (after : Control) → Rooms → Holds → Type 0
BeginsBy known Creation held object access places operands also after rooms holds =
    ((also ≡ []) × Starting known held object access places after rooms holds) ⊎ Naming known held object access places operands also after rooms holds
BeginsBy known Copy held object access places operands also after rooms holds = (also ≡ [])
BeginsBy known (Adjustment number) held object access places operands also after rooms holds = (also ≡ [])

-- What is behind the body, by what it is called for, which is held for it or not; what is watched; and to which other objects the activation that waits refers.
abbrev pub Rests : Known → Treatment → (held : Bool) → (watch : Option Watch) → (object : Id) → (access : ℕ) → Home → (places operands : List Value) → (also : List Reference) → (after : Control) → (lower : List Master) → Rooms → Holds → Type 0
Rests known (begins by done) held watch object access home places operands also after lower rooms holds = BeginsBy known by held object access places operands also after rooms holds
Rests known (ends cause) held watch object access home places operands also after lower rooms holds = RestsBy known cause held watch object access home places operands also after lower rooms holds

-- What is behind the Adjust of a part of a copy (7.6): of the record that was copied these parts are left, which are adjusted next, and none of them has a
-- component of an access type that is to be adjusted; then what is left goes on. Of what these Adjusts may free there is no alias.
pub record Adjusts (known : Known) (access : ℕ) (tasks : List Task) (after : Control) (rooms : Rooms) (holds : Holds) : Type 0 where
  pub record_type : ℕ
  pub left : CopyLeft known.program.types access record_type tasks
  pub none : owners_left known.program.types access tasks ≡ []
  pub runs : RunsOn known after rooms holds
  pub aside : AdjustsAside known access record_type holds

-- So it is where the body is that of an Adjust.
abbrev pub AdjustsBy : Known → Treatment → (access : ℕ) → (tasks : List Task) → (after : Control) → Rooms → Holds → Type 0
AdjustsBy known (begins Creation done) access tasks after rooms holds = Unit {0}
AdjustsBy known (begins Copy done) access tasks after rooms holds = Adjusts known access tasks after rooms holds
AdjustsBy known (begins (Adjustment number) done) access tasks after rooms holds = Adjusts known access tasks after rooms holds
AdjustsBy known (ends cause) access tasks after rooms holds = Unit {0}

-- What is known of the activation that waits, whatever the body is called for: the object has controlled parts, or is a declared one; and what each variable
-- holds is as it is said of it.
pub record Paused (known : Known) (object : Id) (access : ℕ) (places : List Value) (after : Control) (lower : List Master) (rooms : Rooms) (holds : Holds) : Type 0 where
  pub parted : has_bare_objects known.program.types access ≡ false
  pub roomed : Roomed (below known) lower rooms
  pub said : (x : ℕ) → IsSaid (place_at (outers known).given x) (hold_at holds x) (place_at places x)
  pub objects : (x : ℕ) → hold_at holds x ≢ hold.Lost → IsPlace known.program.types (outers known).referenced (variable_kind known.program.variables x) (place_at places x)

-- An object that is finalized and then ceases to exist is under way; one that is initialized, or assigned to, is not.
abbrev pub ended_object : Cause → Id → List Id
ended_object (Leaving m item) object = object ∷ []
ended_object (Freeing number) object = object ∷ []
ended_object (Assigning number) object = []
ended_object (Undoing number) object = object ∷ []

abbrev pub under_way : Treatment → Id → List Id
under_way (begins by done) object = []
under_way (ends cause) object = ended_object cause object

-- What the operations that a finalization calls may free, behind which this stands: at an assignment, of the record that is assigned to (5.2, 7.6.1).
abbrev pub ended_frees : Implicit → Cause → (access : ℕ) → (behind : Control) → ℕ → Bool
ended_frees implicit (Leaving m item) access k t = implicit.end_frees access t
ended_frees implicit (Freeing number) access k t = implicit.end_frees access t
ended_frees implicit (Assigning number) access [] t = true
ended_frees implicit (Assigning number) access (Copies first record_type ∷ k) t = assignment_frees implicit t record_type
ended_frees implicit (Assigning number) access (f ∷ k) t = true
ended_frees implicit (Undoing number) access k t = implicit.end_frees access t

-- What the operations that such a treatment calls may free (7.6, 7.6.1); what the Adjusts of a copy may free is known of the record that was copied.
abbrev pub treated_frees : Implicit → Treatment → (access : ℕ) → (behind : Control) → ℕ → Bool
treated_frees implicit (begins Creation done) access k t = implicit.start_frees access t
treated_frees implicit (begins Copy done) access k t = false
treated_frees implicit (begins (Adjustment number) done) access k t = false
treated_frees implicit (ends cause) access k t = ended_frees implicit cause access k t

-- While a Free ends an object, the one that is watched, if there is one, is there as it was, and is another one; the end of the object reaches none of its
-- type, if that is an access type.
abbrev pub IsSpared : Known → Treatment → Id → (access : ℕ) → List Object → (watch : Option Watch) → Type 0
IsSpared known treatment o access heap None = Unit {0}
IsSpared known (begins by done) o access heap (Some w) = ⊥
IsSpared known (ends cause) o access heap (Some w) =
    (object_at heap w.holder ≡ Some w.is) × (is_there w.is.stage ≡ true) × (w.holder ≢ o)
    × (is_access known.program.types w.is.cell.access ≡ true → known.implicit.end_reaches access w.is.cell.access ≡ false)

-- What is watched, if something is, is there as it was; and the bodies that run in front of this, of procedures among some that neither follow nor free values
-- of its type, if that is an access type, refer to nothing in it, and the operations of what they free, allocate and declare are such procedures. They run in
-- masters of their own, behind these.
abbrev pub Watched : Program → (watch : Option Watch) → (behind : Control) → (lower : List Master) → State → Type 0
Watched program None behind lower s = Unit {0}
Watched program (Some w) behind lower s =
    let p = program_form program in
    (object_at s.heap w.holder ≡ Some w.is)
    × ((apart : Apart) × AreApart p program.types.items (watches p.types (Some w)) apart
    × IsReaching p (watches p.types (Some w)) apart (is_watched (Some w)) (is_unnamed p.types (Some w)) behind lower s)

-- Where an object has gone with its collection, though it is there, something is so around.
abbrev pub AreAround : List Object → (around : Type 0) → Type 0
AreAround heap around = (o : Id) (x : Object) → HasDeparted heap o x → around

-- In the midst of the leaving of such collections, an object is finalized.
abbrev pub departs_by : Treatment → (departs : Bool) → Control → Bool
departs_by (begins by done) b k = false
departs_by (ends cause) b k = departs_next b k

-- What is known where such a body is called: what waits for it, whether the object is held, which is in hand then, and what it may free, of which there is no
-- alias. Each other object of that to which the activation that waits refers is owned outside of it. All that it relies on and refers to has its home in an item
-- of its masters, or an operation runs around it, and that has gone with its collection.
pub record Enters (known : Known) (treatment : Treatment) (o : Id) (x : Object) (after : Control) (heap : List Object) (places operands : List Value) (masters : List Master) : Type 0 where
  pub rooms : Rooms
  pub holds : Holds
  pub also : List Reference
  pub there : (p : Id) (t : ℕ) → IsReferred also p t → access_at heap p ≡ Some t
  pub waits : Paused known o x.cell.access places after masters rooms holds
  pub held : Bool
  pub hand : FreeIf held (outers known) heap places holds x.cell.access o
  pub watch : Option Watch
  pub spared : IsSpared known treatment o x.cell.access heap watch
  pub rests : Rests known treatment held watch o x.cell.access x.cell.home places operands also after masters rooms holds
  pub fit : Fit known.program.types known.program.variables (outers known) none_spared heap places holds
  pub stored : Stored (under_way treatment o ++ (outers known).under) heap masters
  pub may : ℕ → Bool
  pub includes : (t : ℕ) → treated_frees known.implicit treatment x.cell.access after t ≡ true → may t ≡ true
  pub spares : Spares known may
  pub unaliased : Unaliased known.program.variables may holds
  pub kept : (p : Id) (t : ℕ) → IsReferred also p t → may t ≡ true → is_access known.program.types t ≡ true → IsOwnedOutside (outers known) p
  pub low : (y : ℕ) (p : Id) → IsRelied (hold_at holds y) → place_at places y ≡ Names p → LiesBelow heap (height masters) (OneAwaits known.callers) p
  pub lies : LiesBelow heap (height masters) (OneAwaits known.callers) o
  pub others_low : (p : Id) (t : ℕ) → IsReferred also p t → LiesBelow heap (height masters) (OneAwaits known.callers) p
  pub under_low : (p : Id) → IsUnder (under_way treatment o) p → (object : Object) × (object_at heap p ≡ Some object) × (suc object.cell.home.item ≤ height masters)

-- The activation that waits for the body, whose formal parameter stands for a record in the object.
abbrev pub resting : (procedure : Option ℕ) (places : List Value) (treatment : Treatment) (object : Id) (access : ℕ) (also : List Reference) (place : Place) (behind : Control) (lower : List Master) → Keeping → Rooms → Holds → Suspension
resting procedure places treatment object access also place behind lower kept rooms holds = record {
  procedure = procedure;
  tracks = no_tracks;
  actuals = [];
  passed = Part object place ∷ [];
  references = [];
  referenced = record { object = object; access = access } ∷ also;
  under = under_way treatment object;
  held = None;
  kept = kept;
  control = behind;
  masters = lower;
  rooms = rooms;
  places = places;
  before = holds;
}

-- So it is where the object is held, if it is, as if a variable owned it.
abbrev pub holding : (held : Bool) (procedure : Option ℕ) (places : List Value) (treatment : Treatment) (object : Id) (access : ℕ) (also : List Reference) (place : Place) (behind : Control) (lower : List Master) → Keeping → Rooms → Holds → Suspension
holding held procedure places treatment object access also place behind lower kept rooms holds =
    record (resting procedure places treatment object access also place behind lower kept rooms holds) { held = holder_if held object access }

-- What the body of such an operation may free: for an object that is finalized, what its end may free; for a copy, what its adjustment may free; for one that
-- is initialized, whatever is owned by the bodies that run then.
abbrev pub CoversBy : ProgramForm → Treatment → (access freed : ℕ) → Type 0
CoversBy p (begins Creation done) access t = Unit {0}
CoversBy p (begins Copy done) access t = (implicit_of p).adjust_frees access t ≡ true
CoversBy p (begins (Adjustment number) done) access t = (implicit_of p).adjust_frees access t ≡ true
CoversBy p (ends cause) access t = (implicit_of p).end_frees access t ≡ true

-- The body of such an operation runs, or one that it has called, or the operation of an object that one of these frees or allocates: `depth` activations wait
-- for these since then, and behind them the one that waits for the operation.
pub record Pause (program : Program) (depth : ℕ) (s : State) : Type 0 where
  pub number : ℕ
  pub is_body : IsBody (program_form program) (Some number)
  pub procedure : Option ℕ
  pub places : List Value
  pub suspensions : List Suspension
  pub object : Id
  pub place : Place
  pub x : Object
  pub found : object_at s.heap object ≡ Some x
  pub access : ℕ
  pub of_access : x.cell.access ≡ access
  pub home : Home
  pub at_home : x.cell.home ≡ home
  pub treatment : Treatment
  pub of : ℕ
  pub behind : Control
  pub after : Control
  pub tasks : List Task
  pub awaited : WaitsFor (program_form program).types object of treatment tasks after behind
  pub lower : List Master
  pub kept : Keeping
  pub rooms : Rooms
  pub holds : Holds
  pub waits : Paused (known_in program procedure suspensions) object access places after lower rooms holds
  pub covers : (t : ℕ) → CoveredIn (implicit_of (program_form program)) (seen_in (Some number) (program_form program)) t → CoversBy (program_form program) treatment access t
  pub also : List Reference
  pub operands : List Value
  pub computed : operands_of (drop (suc depth) s.activations) ≡ operands
  pub held : Bool
  pub watch : Option Watch
  pub still : Watched program watch behind lower s
  pub rests : Rests (known_in program procedure suspensions) treatment held watch object access home places operands also after lower rooms holds
  pub adjusts : AdjustsBy (known_in program procedure suspensions) treatment access tasks after rooms holds
  pub lets : (e : Exception) → body_among (implicit_of (program_form program)) (seen_in (Some number) (program_form program)) e ≡ true → lets_out (implicit_of (program_form program)) access treatment e ≡ true

-- The activation that waits for the operation.
abbrev pub origin : (program : Program) (depth : ℕ) (s : State) → Pause program depth s → Suspension
origin program depth s f = holding f.held f.procedure f.places f.treatment f.object f.access f.also f.place f.behind f.lower f.kept f.rooms f.holds

-- The objects whose operations these activations wait for, the nearest one first.
abbrev pub operated_among : List Suspension → List Value
operated_among [] = []
operated_among (g ∷ gs) = operated_in g.control ++ operated_among gs

-- In what the outermost operation has called so far, by what bodies go, what is left to do behind it, and the masters that were entered before it.
module _ (program : Program) (s : State) (frugal : Allowance) (back : Control) (lower : List Master) where
  -- An activation waits, in front of these, for the operation of an object that it frees, allocates or declares, or that is undone, whose body is this one
  -- (7.6, 7.6.1, 4.8, 3.3.1, 13.11.2): behind that its own body goes on, in masters of its own, in which operations of these objects run.
  pub record IsOperation (running : Option ℕ) (depth : ℕ) (others : List Suspension) (among : List Value) (g : Suspension) : Type 0 where
    pub pause : Pause program depth s
    pub is : g ≡ origin program depth s pause
    pub behind_it : others ≡ pause.suspensions
    pub runs : running ≡ Some pause.number
    pub inside : IsInside pause.treatment
    pub upper : List Master
    pub masters : pause.lower ≡ upper ++ lower
    pub leads : FrugalOperated frugal back (operated_in pause.behind ++ among) pause.behind upper

  -- These activations wait, in front of others, the nearest one first, for calls or for such operations: the first one for the body that runs, and the last one
  -- is the body of the outermost operation; if none waits, that is the one that runs.
  abbrev pub AreInner : (running : Option ℕ) → (depth : ℕ) → (outermost : Option ℕ) → (others : List Suspension) → List Suspension → Type 0
  AreInner running depth outermost others [] = (running ≡ outermost)
  AreInner running depth outermost others (g ∷ inner) =
      (IsCall g × AreInner g.procedure (suc depth) outermost others inner)
      ⊎ (IsOperation running depth (inner ++ others) (operated_among inner) g × AreInner g.procedure (suc depth) outermost others inner)

-- An operation that touches storage is under way: `inner` are the activations that wait since then, the nearest one first; and behind the outermost operation
-- none runs.
pub record Within (program : Program) (gs : List Suspension) (s : State) : Type 0 where
  pub inner : List Suspension
  pub outermost : Pause program (length inner) s
  pub are : gs ≡ inner ++ origin program (length inner) s outermost ∷ outermost.suspensions
  pub within : AreInner program s (allowance_of (program_form program)) outermost.behind outermost.lower (running_procedure s) 0
      (Some outermost.number) (origin program (length inner) s outermost ∷ outermost.suspensions) inner
  pub frugal : Frugally (allowance_of (program_form program)) outermost.lower outermost.behind (operated_among inner) s
  pub untreated : (v : Value) → v ≢ Names outermost.object → NothingBegins v outermost.after
  pub alone : NoOperationRunsOn (Names outermost.object) outermost.after
  pub calm : IsCalm (behind_call outermost.behind)
  pub settled : AreCalls outermost.suspensions
  pub may : may_be_frugal (program_form program) ≡ true

-- What is around a body, or around what is treated, where these activations wait: no operation runs, or one that touches storage is under way.
abbrev pub Around : (program : Program) → List Suspension → State → Type 0
Around program gs s = (IsCalm (behind_call s.control) × (AreCalls gs)) ⊎ Within program gs s

-- The body of an operation that touches storage runs, or one that it has called, or the operation of an object that one of these frees or allocates.
pub record Touching (program : Program) (s : State) : Type 0 where
  pub suspensions : List Suspension
  pub ready : Ready (known_in program (running_procedure s) suspensions) s
  pub stands : Stands program suspensions s
  pub within : Within program suspensions s
