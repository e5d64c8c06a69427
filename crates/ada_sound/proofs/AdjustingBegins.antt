-- The body of an Adjust that tracks components begins, after a copy of a record (7.6): the state that stands for the real one, which has a variable for each of
-- them, is a sound one.

use Rattle.std.proofs.Common.{◌≡◌, ◌≢◌, ℕ, ◌+◌, zero, suc, Bool, true, false, List, [], ◌∷◌, ◌++◌, length, drop, refl, sym, ap, ◌∙◌, subst, inl, inr}
use Rattle.std.specs.Prelude.{Option, Some, None}
use Rattle.std.specs.List.{list_all, slice_get, slice_index_or}
use Rattle.ada_deeds.specs.Implicit.{implicit_of}
use Rattle.ada_effects.specs.Effects.{body_frees, effects_of}
use Rattle.ada_parts.specs.Part as parts
use Rattle.ada_parts.specs.Task.{Task}
use Rattle.ada_program.specs.declared.program.Exception.{Exception}
use Rattle.ada_program.specs.declared.program.FormalMode.{FormalMode}
use Rattle.ada_program.specs.declared.program.Program.{Program}
use Rattle.ada_program.specs.declared.program.TypeNo.{TypeNo}
use Rattle.ada_program.specs.declared.program.VariableKind.{VariableKind}
use Rattle.ada_program.specs.declared.program.VariableKind.TheVariants as variable_kinds
use Rattle.ada_program.specs.Form.{RightForm, nothing, value_of, allocates, allocates_default, computes, StmtForm, skips, assigns, assigns_record, frees, gets, writes, writes_text, chooses, repeats, counts, exits, calls, returns, raises, encloses, StmtsForm, no_stmts, a_stmt, BranchesForm, otherwise, a_branch, HandlersForm, no_handlers, a_handler, DeclarationForm, creates_pool, collects, declares, declares_record}
use Rattle.ada_program.specs.ProgramForm.{TypeForm, VariableForm, BodyForm, ProgramForm, program_form, main_body, seen_in, seen_by}
use Rattle.ada_program.specs.WellFormed.{access_of, is_access, selected_kind, variable_kind}
use Rattle.ada_quiet.specs.Bare.{has_bare_objects}
use Rattle.ada_quiet.specs.InUse.{may_be_frugal, may_track}
use Rattle.ada_finalized.specs.Law.{NothingBegins}
use Rattle.ada_flow.specs.declared.rule.Hold.TheVariants as hold
use Rattle.ada_flow.specs.Flow.{Holds, Keeping, first_holds, gone_with, hold_at, holds_at_first, tracks_of, variable_access}
use Rattle.ada_flow.specs.Tracking.{Tracks}
use Rattle.ada_judged.specs.Obeying.{BodyIsOrderly}
use Rattle.ada_judged.specs.Fitting.{AreOfAccess, IsOfAccess, TracksComponents}
use Rattle.ada_meaning.specs.declared.event.Birth.{Birth}
use Rattle.ada_meaning.specs.declared.state.Id.{Id}
use Rattle.ada_meaning.specs.declared.state.Mode.TheVariants.{Running}
use Rattle.ada_meaning.specs.declared.state.Place.{Place}
use Rattle.ada_meaning.specs.declared.state.Value.{Value}
use Rattle.ada_meaning.specs.declared.state.Value.TheVariants.{Names, Null, Part}
use Rattle.ada_meaning.specs.Frame.{Elaborates, Returns, begins}
use Rattle.ada_meaning.specs.State.{Activation, Master, height}
use Rattle.ada_meaning.specs.Step.{given_places, operating}
use Rattle.ada_meaning.specs.Named.{Object, State, named, object_at}
use Rattle.ada_meaning.specs.Run.{Event}
use Rattle.ada_owners.specs.Keeping.{IsThere}
use Rattle.ada_owners.specs.Places.{access_at, is_there, variable}
use Rattle.ada_owners.specs.Reliance.{Owns, Borrows, Says}
use Rattle.ada_reaching.specs.Forms.{body_shuns}
use Rattle.ada_tracked.specs.Forms.{seen_right, seen_declarations, seen_stmt, seen_stmts, seen_branches, seen_handlers}
use Rattle.ada_tracked.specs.Frames.{View, watched, shifted, blanked, blank_object, tracked_values}
use Rattle.ada_tracked.specs.Seen.{IsWatched, plainly, seen_state}
use Rattle.ada_tracked.specs.Simple.{FrameIsSimple}
use Rattle.ada_tracked.proofs.Heaps.{blanked_here}
use Rattle.ada_typed.proofs.Bodies.{seen_as}
use Rattle.ada_typed.proofs.Control as typed
use Rattle.ada_typed.proofs.Kept.{behind_call}
use Rattle.ada_quiet.specs.Apart.{is_tracker}
use Rattle.ada_quiet.specs.Simple.{holds_one_value}
use Rattle.ada_sound.proofs.CallsApart.{CallApart}
use Rattle.ada_sound.proofs.WatchedBy.{given_count, some_variable}
use Rattle.ada_sound.proofs.Activations.{called_fit}
use Rattle.ada_sound.proofs.Adjusting.{Adjusting, IsOfCopy}
use Rattle.ada_sound.proofs.Alters.{Alters, alters_set, alters_then}
use Rattle.ada_sound.proofs.Blanked.{out_blanked}
use Rattle.ada_sound.proofs.BlankedBegins.{MayBeNamed, judged_begins, kind_of_access}
use Rattle.ada_sound.proofs.Calls.{relied_says, there_low}
use Rattle.ada_sound.proofs.Callers.{AreCalls, Suspension, Stands, caller_of, callers_of, known_in}
use Rattle.ada_sound.proofs.Fits.{Fit, IsPlace, IsReferred, IsRelied, IsSaid, IsOwnedOutside, IsWithin, MayName, NoOuterAlias, component_access, none_spared, outer_access, outer_hold, owned_deeper, place_at, there_by}
use Rattle.ada_sound.proofs.Invariant.{AdjustsAside, Control, CoveredIn, IsAwaited, Known, LiesBelow, OneAwaits, RunsOn, Spares, Unaliased, Working, body_among, outer_of, outers}
use Rattle.ada_sound.proofs.Judged.{known_judged}
use Rattle.ada_sound.proofs.Operating.{IsCalm, WaitsFor, behind_operation}
use Rattle.ada_sound.proofs.OperationStarts.{apart}
use Rattle.ada_sound.proofs.Orderings.{as_good}
use Rattle.ada_sound.proofs.Returns.{same_types}
use Rattle.ada_sound.proofs.Sparing.{Sparing, bare_apart, begins_sparing, is_around}
use Rattle.ada_sound.proofs.Allowance.{Allowance, allocates_thriftily, are_thrifty_declarations, is_thrifty_stmt, are_thrifty, are_thrifty_branches, are_thrifty_handlers, is_thrifty_body, simple_allowance}
use Rattle.ada_sound.proofs.Stored.{AllOut, none_departed, stored_entered}
use Rattle.ada_sound.proofs.Touching.{resting}
use Rattle.ada_sound.proofs.TouchingBegins.{IsAlone}
use Rattle.ada_sound.proofs.Waiting.{stands_kept}

-- A body is frugal as it is judged, where it is.
module _ (allowance : Allowance) (tracks : Tracks) where
  right_same : (right : RightForm) → allocates_thriftily allowance (seen_right tracks right) ≡ allocates_thriftily allowance right
  right_same nothing = refl
  right_same (value_of path) = refl
  right_same (allocates access items) = refl
  right_same (allocates_default access) = refl
  right_same (computes e) = refl

  declarations_same : (ds : List DeclarationForm) → are_thrifty_declarations allowance (seen_declarations tracks ds) ≡ are_thrifty_declarations allowance ds
  declarations_same [] = refl
  declarations_same (creates_pool p ∷ ds) = refl
  declarations_same (collects access ∷ ds) = refl
  declarations_same (declares x right ∷ ds) = rw (right_same right, declarations_same ds) refl
  declarations_same (declares_record x t None ∷ ds) = rw (declarations_same ds) refl
  declarations_same (declares_record x t (Some items) ∷ ds) = rw (declarations_same ds) refl

  mutual
    stmt_same : (f : StmtForm) → is_thrifty_stmt allowance (seen_stmt tracks f) ≡ is_thrifty_stmt allowance f
    stmt_same skips = refl
    stmt_same (assigns target right) = right_same right
    stmt_same (assigns_record target items) = refl
    stmt_same (frees access path) = refl
    stmt_same (gets target) = refl
    stmt_same (writes e) = refl
    stmt_same (writes_text text) = refl
    stmt_same (chooses branches) = branches_same branches
    stmt_same (repeats condition fs spot) = stmts_same fs
    stmt_same (counts x low high fs spot) = stmts_same fs
    stmt_same (exits condition spot) = refl
    stmt_same (calls procedure actuals) = refl
    stmt_same (returns spot) = refl
    stmt_same (raises e) = refl
    stmt_same (encloses ds fs hs) = rw (declarations_same ds, stmts_same fs, handlers_same hs) refl

    stmts_same : (fs : StmtsForm) → are_thrifty allowance (seen_stmts tracks fs) ≡ are_thrifty allowance fs
    stmts_same no_stmts = refl
    stmts_same (a_stmt f fs) = rw (stmt_same f, stmts_same fs) refl

    branches_same : (branches : BranchesForm) → are_thrifty_branches allowance (seen_branches tracks branches) ≡ are_thrifty_branches allowance branches
    branches_same (otherwise fs) = stmts_same fs
    branches_same (a_branch e fs branches) = rw (stmts_same fs, branches_same branches) refl

    handlers_same : (hs : HandlersForm) → are_thrifty_handlers allowance (seen_handlers tracks hs) ≡ are_thrifty_handlers allowance hs
    handlers_same no_handlers = refl
    handlers_same (a_handler choices fs hs) = rw (stmts_same fs, handlers_same hs) refl

  pub thrifty_as_judged : (b : BodyForm) → is_thrifty_body allowance b ≡ true
      → (are_thrifty_declarations allowance (seen_declarations tracks b.declarations) ≡ true) × (are_thrifty allowance (seen_stmts tracks b.statements) ≡ true) × (are_thrifty_handlers allowance (seen_handlers tracks b.handlers) ≡ true)
  thrifty_as_judged b is =
      let three = apart _ _ is in
      let two = apart _ _ three.0 in
      (declarations_same b.declarations ∙ two.0, stmts_same b.statements ∙ two.1, handlers_same b.handlers ∙ three.1)

-- Each of these components of an object holds null, or names what is there and is of its access type.
abbrev pub AllName : List TypeForm → List Object → Object → (components : List ℕ) → Type 0
AllName types heap x [] = Unit {0}
AllName types heap x (c ∷ cs) = MayName heap (component_access types x c) (slice_index_or x.cell.values c Null) × AllName types heap x cs

-- So it may be named by a variable of this access type, as such a component of a formal parameter.
module _ (types : List TypeForm) (formal : Option VariableKind) (object : TypeNo) (is : formal ≡ Some (variable_kinds.Record object)) (heap : List Object) (x : Object) (base : ℕ) (within : IsWithin types formal x.cell.access base) where
  same_access : (c : ℕ) → IsOfAccess types object c → component_access types x (base + c) ≡ access_of (selected_kind types formal c)
  same_access c of =
      let kind = kind_of_access types formal object is c of in
      ap access_of (within c (variable_kinds.Access of.0) kind) ∙ sym (ap access_of kind)

  named_within : (cs : List ℕ) → AreOfAccess types object cs → AllName types heap x (shifted base cs) → MayBeNamed types formal heap base x.cell.values cs
  named_within [] of names = tt
  named_within (c ∷ cs) of names = (
    subst (λ (kind : Option ℕ). MayName heap kind (slice_index_or x.cell.values (base + c) Null)) (same_access c of.0) names.0,
    named_within cs of.1 names.1,
  )

-- Of each variable it is known what it holds.
first_length : (modes : List FormalMode) (variables : List VariableForm) → length (first_holds modes variables) ≡ length variables
first_length modes [] = refl
first_length [] (v ∷ vs) = ap suc (first_length [] vs)
first_length (m ∷ ms) (v ∷ vs) = ap suc (first_length ms vs)

-- A record with controlled parts, of this type, was copied into an object, and the Adjust of one of them is to be called: each tracked component shares what it
-- names with the source of the copy. But for them the waiting activation goes on, and of what the Adjust may free, as `may` says, it has no alias.
pub record Copied (known : Known) (may : ℕ → Bool) (o : Id) (x : Object) (record_type : ℕ) (w : View) (after : Control) (heap : List Object) (places : List Value) (masters : List Master) : Type 0 where
  pub object_so : w.object ≡ o
  pub found : object_at heap o ≡ Some x
  pub exists : is_there x.stage ≡ true
  pub parted : has_bare_objects known.program.types x.cell.access ≡ false
  pub names : AllName known.program.types heap x (watched w)
  pub works : Working known (blanked w heap) places masters (λ rooms holds. RunsOn known after rooms holds × AdjustsAside known x.cell.access record_type holds)
  pub spares : Spares known may
  pub unaliased : Unaliased known.program.variables may works.holds

-- The body of such an Adjust runs, for this object, which is known by the type `access`: a record of this type was copied into it, and these tasks are left
-- behind the operation, as the control is behind the body, and the masters are around it.
pub record AdjustsIn (program : Program) (o : Id) (access record_type : ℕ) (tasks : List Task) (behind : Control) (lower : List Master) (w : View) (s : State) : Type 0 where
  pub adjusting : Adjusting program s
  pub object_is : adjusting.object ≡ o
  pub access_is : adjusting.access ≡ access
  pub record_is : adjusting.record_type ≡ record_type
  pub left_is : adjusting.tasks ≡ tasks
  pub behind_is : adjusting.behind ≡ behind
  pub lower_is : adjusting.lower ≡ lower
  pub view_is : adjusting.w ≡ w

module _ (program : Program) (number : ℕ) (b : BodyForm) (there : slice_get (program_form program).bodies number ≡ Some b) (w : View) (lone : IsAlone b) (components : TracksComponents (program_form program).types w.tracks b.variables) (a : Activation Value) (rest : List (Activation Value)) (gs : List Suspension) (s : State) (k : Control) (o : Id) (x : Object) (heap : List Object) (place : Place) (based : place.component ≡ w.base)
    (within : IsWithin (program_form program).types (variable_kind b.variables 0) x.cell.access place.component) (by : Birth) (done : List parts.Part) (behind : Control) (kept : Keeping) (may_free : ℕ → Bool) (record_type : ℕ) (tasks : List Task) (at : Copied (known_in program a.procedure gs) may_free o x record_type w k heap a.places s.masters) where
  abbrev p : ProgramForm
  p = program_form program

  abbrev known : Known
  known = known_in program a.procedure gs

  abbrev own : ProgramForm
  own = seen_in (Some number) p

  abbrev waiting : Suspension
  waiting = resting a.procedure a.places (begins by done) o x.cell.access [] place behind s.masters kept at.works.rooms at.works.holds

  abbrev judging : Known
  judging = known_judged program number w.tracks (waiting ∷ gs)

  -- The body, in the real state and in the one that stands for it.
  abbrev begun : State
  begun = operating named number b (Part o place) behind (record s { activations = a ∷ rest; heap = heap; mode = Running })

  abbrev begins_with : List Value
  begins_with = given_places named (Part o place ∷ []) b.variables

  abbrev first : Holds
  first = first_holds b.formals b.variables

  -- The object, where its tracked components hold null.
  abbrev blank : Object
  blank = blank_object (watched w) x

  abbrev blank_heap : List Object
  blank_heap = blanked w heap

  found_blank : object_at blank_heap o ≡ Some blank
  found_blank = subst (λ (q : Id). object_at blank_heap q ≡ Some blank) at.object_so (blanked_here w heap x (rw at.object_so at.found))

  alters_blank : (e : Event) → Alters heap e blank_heap
  alters_blank e = rw (at.object_so, at.found) (alters_set heap e o x blank at.found (refl, refl, refl) (λ h. h) (λ h. inl h))

  -- The body begins with an alias of the object alone.
  none_own : (i : ℕ) → Owns (hold_at first i) → ⊥
  none_own zero own' = rw lone.first at own'
  none_own (suc i) own' = rw (lone.others i) at own'

  right : (i : ℕ) (q : Id) → place_at begins_with i ≡ Names q → Says (access_at blank_heap) (hold_at first i) (variable_access b.variables i) q
  right zero q names = absurd (cc names)
  right (suc i) q names = rw (lone.others i) tt

  said : (i : ℕ) → IsSaid (place_at (Part o place ∷ []) i) (hold_at first i) (place_at begins_with i)
  said zero = rw lone.first tt
  said (suc i) = rw (lone.others i) tt

  objects : (i : ℕ) → hold_at first i ≢ hold.Lost → IsPlace known.program.types ((record { object = o; access = x.cell.access } ∷ []) ++ (outers known).referenced) (variable_kind b.variables i) (place_at begins_with i)
  objects zero ne = (rw lone.is refl, x.cell.access, inl (refl, refl), subst (λ (types : List TypeForm). IsWithin types (variable_kind b.variables 0) x.cell.access place.component) (sym (same_types a.procedure p)) within)
  objects (suc i) ne = absurd (ne (lone.others i))

  refers : (q : Id) (t : ℕ) → IsReferred (record { object = o; access = x.cell.access } ∷ []) q t → access_at blank_heap q ≡ Some t
  refers q t (inl (same, of)) = let exists = at.exists in rw (← same, ← of) (rw (found_blank, exists) refl)
  refers q t (inr other) = absurd other

  begun_fit : Fit known.program.types b.variables (outers judging) none_spared blank_heap begins_with first
  begun_fit =
      called_fit known.program.types (outers known) (outer_of (caller_of program waiting gs)) (Part o place ∷ []) (record { object = o; access = x.cell.access } ∷ []) [] none_spared blank_heap b.variables begins_with first at.works.holds at.works.fit
      (as_good at.works.holds) (λ y own'. own') (λ i own'. absurd (none_own i own')) (λ i j own' other same. absurd (none_own i own')) right said objects refers

  pub body_fit : Fit own.types own.variables (outers judging) none_spared blank_heap begins_with first
  body_fit =
      let same : known.program.types ≡ (seen_by number b p).types = same_types a.procedure p in
      let now : Fit (seen_by number b p).types (seen_by number b p).variables (outers judging) none_spared blank_heap begins_with first = rw same at begun_fit in
      rw (seen_as p number b there) now

  -- What the tracked components name, as the body sees them.
  pub body_named : MayBeNamed own.types (variable_kind own.variables 0) heap w.base x.cell.values w.tracks.components
  body_named =
      let names : AllName p.types heap x (shifted w.base w.tracks.components) = subst (λ (types : List TypeForm). AllName types heap x (watched w)) (same_types a.procedure p) at.names in
      let lies : IsWithin p.types (variable_kind b.variables 0) x.cell.access w.base = subst (λ (first : ℕ). IsWithin p.types (variable_kind b.variables 0) x.cell.access first) based within in
      let now : MayBeNamed (seen_by number b p).types (variable_kind (seen_by number b p).variables 0) heap w.base x.cell.values w.tracks.components =
      named_within p.types (variable_kind b.variables 0) components.object components.formal heap x w.base lies w.tracks.components components.components names in
      rw (seen_as p number b there) now

  -- What the body may free as it is judged, of that there is no alias in what waits.
  abbrev FreesNoMore : Type 0
  FreesNoMore = (t : ℕ) → CoveredIn judging.implicit judging.program t → may_free t ≡ true

  -- It runs as it is judged, where it may free what it does.
  abbrev RunsAsJudged : Type 0
  RunsAsJudged =
      Spares judging (body_frees judging.program.types (effects_of judging.implicit judging.program) (main_body judging.program))
      → RunsOn judging (Elaborates (seen_declarations w.tracks b.declarations) (seen_stmts w.tracks b.statements) (seen_handlers w.tracks b.handlers) ∷ Returns [] [] ∷ behind) (gone_with b.declarations ∷ []) (holds_at_first w.tracks b.formals b.variables)

  -- The variables that stand for tracked components are aliases of what these held.
  abbrev BeginsAsJudged : Type 0
  BeginsAsJudged =
      Fit own.types own.variables (outers judging) none_spared blank_heap begins_with first
      → MayBeNamed own.types (variable_kind own.variables 0) heap w.base x.cell.values w.tracks.components
      → Fit judging.program.types judging.program.variables (outers judging) none_spared blank_heap (begins_with ++ tracked_values w heap) (holds_at_first w.tracks b.formals b.variables)

  -- So they are where the object is watched.
  pub begins_as_judged : IsWatched w begins_with heap → BeginsAsJudged
  begins_as_judged watches fit names =
      let same : x ≡ watches.object = let found = rw at.object_so at watches.at_object in let there = at.found in cc (found, there) in
      judged_begins w heap watches own_components own_length
      (subst (λ (y : Object). MayBeNamed own.types (variable_kind own.variables 0) heap w.base y.cell.values w.tracks.components) same names) fit
    where
      own_components : TracksComponents own.types w.tracks own.variables
      own_components = let now : TracksComponents (seen_by number b p).types w.tracks (seen_by number b p).variables = components in rw (seen_as p number b there) now

      own_length : length first ≡ length own.variables
      own_length = let now : length first ≡ length (seen_by number b p).variables = first_length b.formals b.variables in rw (seen_as p number b there) now

  -- The state that stands for the real one is typed.
  abbrev TypedAsJudged : Type 0
  TypedAsJudged = typed.TypedIn judging.program (seen_state w begun)

  -- What it may free has no controlled parts.
  abbrev FreesBare : Type 0
  FreesBare = (t : ℕ) → CoveredIn judging.implicit judging.program t → has_bare_objects known.program.types t ≡ true

  -- In the state in which it begins, the words of all that is there are out.
  module _ (frees_no_more : FreesNoMore) (frees_bare : FreesBare) (out : AllOut heap) where
    no_outer : (t : ℕ) → CoveredIn judging.implicit judging.program t → NoOuterAlias known.program.types (outers judging) t
    no_outer t may = (
      (λ d y of b'. (by_depth d y of b')),
      (λ q is access. by_reference q is access),
    )
      where
        ends : may_free t ≡ true
        ends = frees_no_more t may

        by_depth : (d y : ℕ) → outer_access (slice_get (outers judging).suspended d) y ≡ Some t → Borrows (outer_hold (slice_get (outers judging).suspended d) y) → ⊥
        by_depth zero y of b' = at.unaliased y t of ends b'
        by_depth (suc d) y of b' = (at.spares t ends).0.0 d y of b'

        by_reference : (q : Id) → IsReferred (outers judging).referenced q t → is_access known.program.types t ≡ true → IsOwnedOutside (outers judging) q
        by_reference q (inl (same, of)) access = let parted = at.parted in let bare = frees_bare t may in absurd (cc (parted, of, bare))
        by_reference q (inr outer) access = owned_deeper (outer_of (caller_of program waiting gs)) (outers known).suspended q ((at.spares t ends).0.1 q outer access)

    spares : Spares judging (body_frees judging.program.types (effects_of judging.implicit judging.program) (main_body judging.program))
    spares t may = (subst (λ (types : List TypeForm). NoOuterAlias types (outers judging) t) (same_types a.procedure p ∙ sym (same_types (Some number) p)) (no_outer t may), may)

    covers : (t : ℕ) → CoveredIn judging.implicit judging.program t → CoveredIn known.implicit known.program t
    covers t may = (at.spares t (frees_no_more t may)).1

    -- What the waiting activation relies on lies in masters that were entered before.
    is_low : (q : Id) → IsThere blank_heap q → LiesBelow blank_heap (height s.masters) (OneAwaits (callers_of program gs)) q
    is_low q is =
        there_low blank_heap s.masters (OneAwaits (callers_of program gs)) q at.works.stored is
        (λ y departed. none_departed blank_heap (out_blanked w heap out) q y departed)

    variables_low : (y : ℕ) (q : Id) → IsRelied (hold_at at.works.holds y) → place_at a.places y ≡ Names q → LiesBelow blank_heap (height s.masters) (OneAwaits (callers_of program gs)) q
    variables_low y q relied names =
        is_low q (there_by blank_heap _ q (relied_says blank_heap (hold_at at.works.holds y) _ q relied (at.works.fit.owners.fit.relied (variable y) q names)))

    referred_low : (q : Id) (t : ℕ) → IsReferred (record { object = o; access = x.cell.access } ∷ []) q t → LiesBelow blank_heap (height s.masters) (OneAwaits (callers_of program gs)) q
    referred_low q t (inl (same, of)) = rw (← same) (is_low o (blank, found_blank, at.exists))
    referred_low q t (inr other) = absurd other

    -- The body looks at the object by its formal parameter alone.
    looks_elsewhere : body_shuns p.types (is_around x.cell.access) (bare_apart program) b ≡ true → Sparing program w.object x.cell.access behind s.masters begun
    looks_elsewhere shuns =
        subst (λ (q : Id). Sparing program q x.cell.access behind s.masters begun) (sym at.object_so)
        (begins_sparing program number b there x.cell.access shuns o place behind (record s { activations = a ∷ rest; heap = heap; mode = Running }))

    -- The body begins.
    pub adjusting_begins : IsOfCopy by → tracks_of p.types number b ≡ w.tracks → is_tracker p number ≡ true → BodyIsOrderly w.tracks b → list_all (λ y. holds_one_value y.kind) (drop 1 b.variables) ≡ true → may_track p ≡ true → body_shuns p.types (is_around x.cell.access) (bare_apart program) b ≡ true → may_be_frugal p ≡ true → is_thrifty_body (simple_allowance p.types) b ≡ true → FrameIsSimple w.tracks.first (Elaborates b.declarations b.statements b.handlers)
        → ((e : Exception) → body_among (implicit_of p) (known_judged program number w.tracks []).program e ≡ true → ⊥)
        → CallApart p.types (is_tracker p) (seen_state w begun).control → RunsAsJudged → BeginsAsJudged → TypedAsJudged
        → (e : Event) (of : ℕ) → Alters s.heap e heap → WaitsFor p.types o of (begins by done) tasks k behind → Stands program gs (record s { activations = a ∷ rest }) → IsCalm (behind_call behind) → AreCalls gs
        → ((v : Value) → v ≢ Names o → NothingBegins v k)
        → AdjustsIn program o x.cell.access record_type tasks behind s.masters w begun
    adjusting_begins copies tracks_so tracker orderly alone_there tracking shuns may frugal simple silent calls_apart runs_judged begins_judged typed_judged e of alters awaited stands calm settled untreated =
        let still = stands_kept program (record s { activations = a ∷ rest }) (behind_operation (a ∷ rest) behind s.masters (record s { heap = blank_heap })) gs stands e (record { procedure = refl; suspended = refl }) (alters_then s.heap heap blank_heap e alters (alters_blank e)) in
        let f : Adjusting program begun =
        record {
          number = number;
          b = b;
          there = there;
          runs = refl;
          w = w;
          tracks_so = tracks_so;
          tracker = tracker;
          components = components;
          orderly = orderly;
          lone = alone_there;
          t = seen_state w begun;
          seen = plainly tt refl;
          simple = (simple, tt);
          procedure = a.procedure;
          places = a.places;
          suspensions = gs;
          object = o;
          object_so = at.object_so;
          place = place;
          based = based;
          formal = refl;
          count = given_count (Part o place) b.variables (some_variable b.variables (variable_kinds.Record lone.object) lone.is);
          x = x;
          found = at.found;
          access = x.cell.access;
          of_access = refl;
          by = by;
          copies = copies;
          done = done;
          of = of;
          record_type = record_type;
          tasks = tasks;
          behind = behind;
          ends = refl;
          after = k;
          awaited = awaited;
          lower = s.masters;
          sparing = looks_elsewhere shuns;
          kept = kept;
          rooms = at.works.rooms;
          holds = at.works.holds;
          frugal = record {
            upper = record { number = s.next; items = [] } ∷ [];
            masters = refl;
            frugally = inl ((tt, thrifty_as_judged (simple_allowance p.types) w.tracks b frugal), inl ((refl, refl), refl, refl, refl));
          };
          waits = record {
            parted = at.parted;
            roomed = at.works.roomed;
            said = at.works.fit.said;
            objects = at.works.fit.objects;
          };
          untreated = untreated;
          rests = at.works.rest.0;
          aside = at.works.rest.1;
          calm = calm;
          settled = settled;
          tracking = tracking;
          may = may;
          silent = silent;
          bodies = (refl, stands.body, stands.behind, stands.bodies, refl);
          standing = record {
            suspended = (refl, stands.standing.suspended);
            waiting = (inr (record { roomed = at.works.roomed; covers = covers; operated = subst IsAwaited (sym awaited.1) tt }), stands.standing.waiting);
            low = (variables_low, referred_low, (λ q none. absurd none), still.standing.low, (λ y q none names. absurd none));
          };
          typed = typed_judged;
          apart = calls_apart;
          ready = (
            tt,
            record {
              rooms = gone_with b.declarations ∷ [];
              holds = holds_at_first w.tracks b.formals b.variables;
              stored = stored_entered s.next at.works.stored;
              roomed = (tt, refl);
              fit = begins_judged body_fit body_named;
              rest = runs_judged spares;
            },
          );
        } in
        record { adjusting = f; object_is = refl; access_is = refl; record_is = refl; left_is = refl; behind_is = refl; lower_is = refl; view_is = refl }
