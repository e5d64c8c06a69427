-- The Adjust of a copy is called that tracks components (7.6): its body begins in a sound state.

use Rattle.std.proofs.Common.{◌≡◌, ◌≢◌, ℕ, true, false, List, [], ◌∷◌, length, drop, refl, sym, ap, subst, ◌∙◌, ◌&&◌, not, Bool, ◌+◌, ◌<◌, inl, inr, arith}
use Rattle.std.proofs.lemmas.Bool.{and_parts, ltb-true}
use Rattle.std.proofs.lemmas.List.Elements.{Contains-append_right}
use Rattle.std.specs.List.{list_all}
use Rattle.std.specs.Prelude.{Option, Some}
use Rattle.ada_beside.specs.Law.{LieBeside}
use Rattle.ada_deeds.specs.Implicit.{implicit_of}
use Rattle.ada_finalized.specs.Law.{NothingBegins}
use Rattle.ada_judged.specs.Fitting.{BodyIsSimple, TracksComponents}
use Rattle.ada_judged.specs.Obeying.{BodyIsOrderly}
use Rattle.ada_meaning.specs.Frame as frame
use Rattle.ada_meaning.specs.Frame.{Treatment, begins}
use Rattle.ada_meaning.specs.Named.{Object, State, named, object_at}
use Rattle.ada_meaning.specs.Run.{Event}
use Rattle.ada_meaning.specs.State.{Activation, Master}
use Rattle.ada_meaning.specs.Step.{operating, places}
use Rattle.ada_meaning.specs.declared.event.Birth.TheVariants.{Creation, Copy, Adjustment}
use Rattle.ada_meaning.specs.declared.event.Birth.{Birth}
use Rattle.ada_meaning.specs.declared.state.Id.{Id}
use Rattle.ada_meaning.specs.declared.state.Mode.TheVariants.{Running}
use Rattle.ada_meaning.specs.declared.state.Place.{Place}
use Rattle.ada_meaning.specs.declared.state.Stage.TheVariants.{Existing}
use Rattle.ada_meaning.specs.declared.state.Value.TheVariants.{Names, Part}
use Rattle.ada_meaning.specs.declared.state.Value.{Value}
use Rattle.ada_parts.specs.Task.{Task, performs}
use Rattle.ada_program.specs.Controlled.{operations_of}
use Rattle.ada_program.specs.ProgramForm.{ProgramForm, TypeForm, body_forms, main_body, program_form, seen_by, seen_in}
use Rattle.ada_program.specs.WellFormed.{IsWellFormed, is_access, object_named, reached_components, variable_kind, record_components}
use Rattle.ada_program.specs.declared.program.ComponentKind.{ComponentKind}
use Rattle.ada_program.specs.declared.program.Program.{Program}
use Rattle.ada_program.specs.declared.program.VariableKind.TheVariants as variable_kinds
use Rattle.ada_quiet.specs.Apart.{body_calls_apart, is_tracker}
use Rattle.ada_quiet.specs.Bare.{has_bare_objects}
use Rattle.ada_quiet.specs.Idle.{copies_parts}
use Rattle.ada_quiet.specs.InUse.{may_be_frugal, count_found}
use Rattle.ada_quiet.specs.Simple.{holds_one_value, is_simple_body}
use Rattle.ada_reaching.specs.Forms.{body_shuns}
use Rattle.ada_reaching.specs.Reaching.{AreLow, IsGhost}
use Rattle.ada_reaching.proofs.Law.{operation_reaches}
use Rattle.ada_sound.specs.Always.{LetsNothingOut, SparesAdjusted, SparesOwn}
use Rattle.ada_sound.proofs.AdjustedParts.{adjusted_frees}
use Rattle.ada_sound.proofs.Adjusting.{IsOfCopy, copied, assigned, AdjustingCopy, LeavesAlone, LeftAlone, LieWithin, Shunned, is_one_of, is_this, same_sparing}
use Rattle.ada_sound.proofs.AdjustingBegins.{Copied, adjusting_begins, begins_as_judged, AdjustsIn}
use Rattle.ada_sound.proofs.AdjustingEnters.{adjust_called, called_operable, copied_type, copied_where_called, copy_among, copy_tracks, copy_view, called_begins, called_record, copy_beside, copy_declares, copy_found, copy_heap, copy_left, copy_object, copy_of_access, copy_owners, copy_record, formal_components, not_one}
use Rattle.ada_sound.proofs.AdjustingGoes.{in_a_row}
use Rattle.ada_sound.proofs.Alters.{Alters, alters_set}
use Rattle.ada_sound.proofs.BareObjects.{frugal_frees_bare}
use Rattle.ada_sound.proofs.Blanked.{out_blanked, stored_unblanked}
use Rattle.ada_sound.proofs.Stored.{AllOut, listed_out}
use Rattle.ada_sound.proofs.Callers.{AreCalls, Suspension, Stands, known_in}
use Rattle.ada_sound.proofs.CallsApart.{CallApart}
use Rattle.ada_sound.proofs.ConfinedBodies.{confined_body, reaches_record}
use Rattle.ada_sound.proofs.CopiedOwners.{AreCopied, BeginsCopy, CopiedFrom, CopyLeft, hiding, owners_left, part_owners}
use Rattle.ada_sound.proofs.CopyParts.{called_first, copied_fewer, left_called}
use Rattle.ada_sound.proofs.Calls.{home_low}
use Rattle.ada_sound.proofs.Fits.{IsWithin}
use Rattle.ada_sound.proofs.Invariant.{Control, CoveredIn}
use Rattle.ada_sound.proofs.Judged.{judged_in}
use Rattle.ada_sound.proofs.JudgedAdjusts.{judged_lets_none}
use Rattle.ada_sound.proofs.JudgedApart.{judged_apart}
use Rattle.ada_sound.proofs.JudgedForms.{judged_covers, orderly_seen, orderly_simple, tracks_seen}
use Rattle.ada_sound.proofs.JudgedKinds.{tracks_components}
use Rattle.ada_sound.proofs.JudgedRuns.{judged_runs, keeps_tracking}
use Rattle.ada_sound.proofs.JudgedTyped.{typed_begins}
use Rattle.ada_sound.proofs.Allowance.{is_thrifty_body, simple_allowance}
use Rattle.ada_sound.proofs.OnlyParts.{passed_at}
use Rattle.ada_sound.proofs.Operating.{IsCalm, WaitsFor}
use Rattle.ada_sound.proofs.OperationBegins.{formal_holds, formal_within}
use Rattle.ada_sound.proofs.OrderlyBodies.{lone_body, orderly_body}
use Rattle.ada_sound.proofs.PartsApart.{PartWithin, walked_sizes}
use Rattle.ada_sound.proofs.QuietOperations.{MayTrack}
use Rattle.ada_sound.proofs.Returns.{same_types}
use Rattle.ada_sound.proofs.ShunsAround.{shuns_around}
use Rattle.ada_sound.proofs.SimpleBodies.{simple_thrifty}
use Rattle.ada_sound.proofs.Sparing.{Sparing, bare_apart, begins_sparing, is_around}
use Rattle.ada_sound.proofs.Starts.{Obeys}
use Rattle.ada_sound.proofs.Touching.{resting}
use Rattle.ada_sound.proofs.TouchingBegins.{IsAlone, alone}
use Rattle.ada_sound.proofs.Trackers.{calls_stand_apart, frugal_too, order_too, stands_apart}
use Rattle.ada_sound.proofs.TracksWell.{copied_in_order}
use Rattle.ada_sound.proofs.TracksApart.{tracks_apart}
use Rattle.ada_sound.proofs.Treatments.{BeginsAdjust}
use Rattle.ada_sound.proofs.TypedAside.{typed_aside}
use Rattle.ada_sound.proofs.WatchedBy.{given_count, some_variable, watched_by}
use Rattle.ada_owners.proofs.Kernel.{same_id}
use Rattle.ada_owners.proofs.Objects.{id_is}
use Rattle.ada_parts.proofs.Facts.{eq_self}
use Rattle.ada_tracked.proofs.Heaps.{blanked_here}
use Rattle.ada_tracked.proofs.Lists.{apart_is, is_same}
use Rattle.ada_typed.proofs.Lying.{IsOperable, placed}
use Rattle.ada_typed.proofs.Walking.{walks_to}
use Rattle.ada_tracked.specs.Frames.{View, blank_object, watched, blanked}
use Rattle.ada_tracked.specs.Seen.{IsWatched, seen_state}
use Rattle.ada_typed.proofs.Bodies.{seen_as, seen_fits, tables_in}
use Rattle.ada_typed.proofs.Control as typed
use Rattle.ada_typed.proofs.Kept.{behind_call}
use Rattle.ada_typed.proofs.Overridings.{beginning_for}
use Rattle.ada_typed.proofs.Values.{AreFilled}
use Rattle.ada_typed.specs.Holding.{cells_of}

-- A copy of a record begins where an object is declared, or a record is assigned to.
of_copy : (by : Birth) → BeginsCopy by → IsOfCopy by
of_copy Creation copies = absurd copies
of_copy Copy copies = copied
of_copy (Adjustment number) copies = assigned number

-- What is left of the adjustment of a record is left of that of the same record, and so it is with what is put aside.
same_alone :
    (program : Program) (access r : ℕ) (tasks : List Task) (w : View) (behind : Control) (lower : List Master) (access_too r_too : ℕ) (tasks_too : List Task)
    (w_too : View) (behind_too : Control) (lower_too : List Master) → access_too ≡ access → r_too ≡ r → tasks_too ≡ tasks → w_too ≡ w → behind_too ≡ behind
    → lower_too ≡ lower → (o : Id) (owners : List ℕ) (vs : List Value) (s : State) → LeftAlone program access r tasks w o owners vs behind lower s
    → LeftAlone program access_too r_too tasks_too w_too o owners vs behind_too lower_too s
same_alone program access r tasks w behind lower access_too r_too tasks_too w_too behind_too lower_too a b c d e f o owners vs s alone =
    subst (λ (n : ℕ). LeftAlone program n r_too tasks_too w_too o owners vs behind_too lower_too s) (sym a)
    (subst (λ (n : ℕ). LeftAlone program access n tasks_too w_too o owners vs behind_too lower_too s) (sym b)
    (subst (λ (ts : List Task). LeftAlone program access r ts w_too o owners vs behind_too lower_too s) (sym c)
    (subst (λ (view : View). LeftAlone program access r tasks view o owners vs behind_too lower_too s) (sym d)
    (subst (λ (k : Control). LeftAlone program access r tasks w o owners vs k lower_too s) (sym e)
    (subst (λ (ms : List Master). LeftAlone program access r tasks w o owners vs behind ms s) (sym f) alone)))))

-- Putting components of an object aside alters no more than what a step may.
alters_aside : (owners : List ℕ) (heap : List Object) (e : Event) (o : Id) (x : Object) → object_at heap o ≡ Some x → Alters heap e (blanked (hiding owners o) heap)
alters_aside owners heap e o x found = rw found (alters_set heap e o x (blank_object (watched (hiding owners o)) x) found (refl, refl, refl) (λ h. h) (λ h. inl h))

-- The body of such an Adjust is next.
module _
    (program : Program) (well : IsWellFormed (program_form program)) (obeys : Obeys program) (none_out : LetsNothingOut (program_form program)) (copies : copies_parts (program_form program) ≡ true)
    (spares_adjusted : SparesAdjusted (program_form program)) (spares_own : SparesOwn program)
    (a : Activation Value) (rest : List (Activation Value)) (s : State) (gs : List Suspension) (v : Value) (k : Control) (IsOperated : Treatment → Id → ℕ → Type 0) (e : Event) (after : State)
    (c : BeginsAdjust (known_in program a.procedure gs) a rest s program.types.items (body_forms program) v k IsOperated e after)
    (tracks : MayTrack (program_form program) c.b) (filled : AreFilled (program_form program).types (cells_of s.heap) (cells_of s.heap)) (out : AllOut s.heap) (typing : typed.Typed (program_form program) after)
  where
    abbrev p : ProgramForm
    p = program_form program

    abbrev own : ProgramForm
    own = seen_in (Some c.number) p

    abbrev x : Object
    x = c.to.x

    abbrev o : Id
    o = c.to.o

    abbrev r : ℕ
    r = c.to.record_type

    abbrev place : Place
    place = record { component = c.p.first; part = c.part }

    abbrev behind : Control
    behind = frame.Awaits (Names o) c.by c.done c.of c.part c.tasks ∷ k

    -- What stands for the object, and all that holds of it there.
    abbrev w : View
    w = copy_view program well tracks.0 a rest s gs v k IsOperated e after c filled

    -- What is left to be adjusted, the part that is called included.
    abbrev left : CopyLeft p.types x.cell.access r (performs c.of c.part ∷ c.tasks)
    left = copy_left program well tracks.0 a rest s gs v k IsOperated e after c filled

    -- The record that this part is.
    abbrev lies : PartWithin p.types x.cell.access r left.first left.part c.of c.part
    lies = copy_record program well tracks.0 a rest s gs v k IsOperated e after c filled

    -- The components of the parts that are left are put aside.
    abbrev owners : List ℕ
    owners = copy_owners program well tracks.0 a rest s gs v k IsOperated e after c filled

    abbrev heap : List Object
    heap = copy_heap program well tracks.0 a rest s gs v k IsOperated e after c filled

    abbrev aside : Object
    aside = copy_object program well tracks.0 a rest s gs v k IsOperated e after c filled

    found : object_at heap o ≡ Some aside
    found = copy_found program well tracks.0 a rest s gs v k IsOperated e after c filled

    -- The body begins so, and so in the state in which they are.
    abbrev real : State
    real = operating named c.number c.b (Part o place) behind (record s { activations = a ∷ rest; mode = Running })

    abbrev begun : State
    begun = operating named c.number c.b (Part o place) behind (record s { activations = a ∷ rest; heap = heap; mode = Running })

    abbrev may_free : ℕ → Bool
    may_free = (implicit_of p).adjust_frees (copied_type program well tracks.0 a rest s gs v k IsOperated e after c filled)

    at : Copied (known_in program a.procedure gs) may_free o aside r w k heap a.places s.masters
    at = copied_where_called program well tracks.0 a rest s gs v k IsOperated e after c filled

    -- What it is called for has controlled parts, and what it frees has none.
    may : may_be_frugal p ≡ true
    may = frugal_too p tracks.0

    simple_so : is_simple_body p.types c.b ≡ true
    simple_so = tracks.1

    thrifty : is_thrifty_body (simple_allowance p.types) c.b ≡ true
    thrifty = simple_thrifty (simple_allowance p.types) c.b simple_so

    -- What the waiting activation sees, and the body.
    known_types : (known_in program a.procedure gs).program.types ≡ p.types
    known_types = same_types a.procedure p

    own_is : own ≡ seen_by c.number c.b p
    own_is = seen_as p c.number c.b c.there

    -- The body tracks components of its formal parameter.
    components : TracksComponents p.types w.tracks c.b.variables
    components =
        let tracked = copy_tracks program well tracks.0 a rest s gs v k IsOperated e after c filled in
        let declared = copy_declares program well tracks.0 a rest s gs v k IsOperated e after c filled in
        tracks_components p well c.number c.b (λ none. declared (sym tracked ∙ none))

    -- It is of the forms of which the laws on tracked components speak.
    orderly : BodyIsOrderly w.tracks c.b
    orderly = orderly_body p well c.number c.b c.there w.tracks components simple_so

    simple : BodyIsSimple w.tracks.first c.b
    simple = orderly_simple w.tracks c.b orderly

    -- So it is as it sees its program.
    own_components : TracksComponents own.types w.tracks own.variables
    own_components = tracks_seen p c.number c.b w.tracks c.there components

    own_orderly : BodyIsOrderly w.tracks (main_body own)
    own_orderly = orderly_seen p c.number c.b w.tracks c.there orderly

    -- Its formal parameter is the only variable of it that is a record.
    lone : IsAlone c.b
    lone =
        let operation = beginning_for p program.types.items refl well.operations_fit c.by c.of c.number c.called in
        let body : operation.body ≡ c.b = let found = operation.there in let there = c.there in cc (found, there) in
        alone c.b operation.object (rw body at operation.formals)

    none_other : list_all (λ y. holds_one_value y.kind) (drop 1 c.b.variables) ≡ true
    none_other = lone_body p.types c.b simple_so

    -- Each variable has a value.
    count : length (places begun) ≡ length c.b.variables
    count = given_count (Part o place) c.b.variables (some_variable c.b.variables (variable_kinds.Record lone.object) lone.is)

    -- It begins in a typed state, so its formal parameter refers to a record in the object.
    begins_typed : typed.Typed p begun
    begins_typed =
        typed_aside p owners o s.heap x c.to.found (copy_of_access program well tracks.0 a rest s gs v k IsOperated e after c filled) filled real refl
        (subst (typed.Typed p) c.is typing)

    inside : typed.TypedIn own begun
    inside = begins_typed.inside

    within : IsWithin p.types (variable_kind c.b.variables 0) x.cell.access place.component
    within =
        let inside_body : typed.TypedIn (seen_by c.number c.b p) begun = subst (λ (q : ProgramForm). typed.TypedIn q begun) own_is inside in
        let holds = formal_holds program c.number c.b o place begun (_, refl) aside found inside_body in
        formal_within p.types (variable_kind c.b.variables 0) o x.cell.access place lone.object lone.is (rw lone.is at holds)

    -- The body follows no value of the object's type, and frees none.
    shuns : body_shuns p.types (is_around x.cell.access) (bare_apart program) c.b ≡ true
    shuns =
        shuns_around program well spares_adjusted spares_own x.cell.access c.of c.part c.number (called_operable program well x.cell.access r c.of c.part c.tasks left)
        (adjust_called c.by (operations_of program.types.items c.of) c.number c.copies c.called) c.b c.there simple_so

    -- So it looks at the object by its formal parameter alone in the real state.
    looks_elsewhere : Sparing program o x.cell.access behind s.masters real
    looks_elsewhere = begins_sparing program c.number c.b c.there x.cell.access shuns o place behind (record s { activations = a ∷ rest; mode = Running })

    -- The object is watched: it exists.
    exists : aside.stage ≡ Existing
    exists = (at.works.stored.sane o (blank_object (watched w) aside) (blanked_here w heap aside found)).there_exists c.to.there

    watches : IsWatched w (places begun) heap
    watches =
        let here = sym own_is in
        watched_by own (tables_in own (seen_fits p well (Some c.number))) w own_components begun place aside inside refl refl
        (subst (λ (q : ProgramForm). length (places begun) ≡ length q.variables) here count) found exists
        (tracks_apart p.types (in_a_row p well tracks.0) c.number c.b)

    -- It frees no more than the adjustment may.
    frees_no_more : (t : ℕ) → CoveredIn (implicit_of p) (judged_in w.tracks own) t → may_free t ≡ true
    frees_no_more t covered =
        adjusted_frees program well x.cell.access r c.of c.part c.tasks left
        (copied_type program well tracks.0 a rest s gs v k IsOperated e after c filled) (copy_among program well tracks.0 a rest s gs v k IsOperated e after c filled)
        c.by c.copies c.number c.b c.there c.called t (judged_covers own w.tracks own_components own_orderly (implicit_of p) t covered)

    -- And that has no controlled parts.
    frees_bare : (t : ℕ) → CoveredIn (implicit_of p) (judged_in w.tracks own) t → has_bare_objects (known_in program a.procedure gs).program.types t ≡ true
    frees_bare t covered =
        subst (λ (types : List TypeForm). has_bare_objects types t ≡ true) (sym known_types)
        (frugal_frees_bare program well c.number c.b c.there thrifty t (judged_covers own w.tracks own_components own_orderly (implicit_of p) t covered))

    -- What is left to do calls nothing that tracks.
    calls_apart : CallApart p.types (is_tracker p) k → CallApart p.types (is_tracker p) (seen_state w begun).control
    calls_apart behind_apart =
        let own_apart = passed_at (body_calls_apart p.types (is_tracker p)) p.bodies c.number c.b (calls_stand_apart p (stands_apart p tracks.0)).1 c.there in
        (judged_apart p.types w.tracks (is_tracker p) c.b own_apart, (tt, (tt, behind_apart)))

    -- The state that stands for the real one is typed.
    judged_typed : typed.TypedIn (judged_in w.tracks own) (seen_state w begun)
    judged_typed =
        typed_begins p well c.number c.b c.there w components simple begun behind place aside begins_typed refl refl refl refl refl count found

    -- The treatment of the object waits for it.
    awaited : WaitsFor p.types o c.of (begins c.by c.done) c.tasks k behind
    awaited = (c.part, refl)

    -- What is left of the adjustment, and the original.
    abbrev LeftOf : List TypeForm → Type 0
    LeftOf types =
        (l : CopyLeft types x.cell.access r (performs c.of c.part ∷ c.tasks))
        × AreCopied types s.heap o r l.first (owners_left types x.cell.access (performs c.of c.part ∷ c.tasks)) x.cell.values

    both : LeftOf p.types
    both = subst LeftOf known_types (c.to.left, c.to.copied)

    abbrev l : CopyLeft p.types x.cell.access r (performs c.of c.part ∷ c.tasks)
    l = both.0

    abbrev own_lies : PartWithin p.types x.cell.access r l.first l.part c.of c.part
    own_lies = called_record program well x.cell.access r c.of c.part c.tasks l

    -- What lies beside the record is left alone: its body reaches no more than the record.
    record_components_so : reached_components p.types components.object.0 ≡ record_components p.types lies.placed.record_type
    record_components_so = formal_components program well lies.placed.record_type c.of lies.placed.numbered c.by c.number c.b c.there c.called components.object components.formal

    beside_record : LieBeside w (reaches_record p.types components.object) (is_one_of owners)
    beside_record d reached =
        let less : d < count_found (reached_components p.types components.object.0) = ltb-true d (count_found (reached_components p.types components.object.0)) reached in
        not_one owners (w.base + d)
        (copy_beside program well tracks.0 a rest s gs v k IsOperated e after c filled d
        (subst (λ (found : Option (List ComponentKind)). d < count_found found) record_components_so less))

    -- That lies in the copy.
    within_record : LieWithin w (reaches_record p.types components.object) l.first (count_found (record_components p.types r))
    within_record d reached =
        let rows = copied_in_order p well (order_too p tracks.0) in
        let less : d < count_found (reached_components p.types components.object.0) = ltb-true d (count_found (reached_components p.types components.object.0)) reached in
        let same = formal_components program well own_lies.placed.record_type c.of own_lies.placed.numbered c.by c.number c.b c.there c.called components.object components.formal in
        let below : d < count_found (record_components p.types own_lies.placed.record_type) = subst (λ (found : Option (List ComponentKind)). d < count_found found) same less in
        let inside = walked_sizes p.types rows r own_lies.before own_lies.count own_lies.placed.record_type own_lies.walks in
        let begins : c.p.first ≡ own_lies.placed.base = called_begins program well x.cell.access r c.of c.part c.tasks l s.heap filled o x c.to.found refl c.p c.state in
        let first = own_lies.first_so in
        (omega (arith, begins, first), omega (arith, begins, first, inside, below))

    -- It reaches neither the original, if that lies in another object: its type has a part of the type of this Adjust, too.
    module _ (origin : CopiedFrom p.types s.heap o r l.first owners x.cell.values) (ne : origin.source ≢ o) where
      abbrev around : ℕ
      around = origin.object.cell.access

      original_operable : IsOperable p.types around c.of (origin.part + own_lies.count)
      original_operable = (
        placed own_lies.placed.record_type c.of (origin.first + own_lies.before) (origin.part + own_lies.count) own_lies.placed.numbered
            (walks_to p.types (object_named p.types (Some around)) (Some r) (Some own_lies.placed.record_type) origin.first origin.part own_lies.before own_lies.count
            (origin.lies.1 (l.sees.counts l.of l.numbered)) own_lies.walks),
        (called_operable program well x.cell.access r c.of c.part c.tasks l).1,
      )

      original_shunned : body_shuns p.types (is_around around) (bare_apart program) c.b ≡ true
      original_shunned =
          shuns_around program well spares_adjusted spares_own around c.of (origin.part + own_lies.count) c.number original_operable
          (adjust_called c.by (operations_of program.types.items c.of) c.number c.copies c.called) c.b c.there simple_so

      original_ghost : (accessed : Bool) → is_access p.types around ≡ accessed → (q : Id) → is_this origin.source q ≡ true
          → IsGhost p.types (is_around around) (not accessed && is_this origin.source q) (object_at s.heap q)
      original_ghost true is q same = record {
        object = origin.object;
        there = subst (λ (u : Id). object_at s.heap u ≡ Some origin.object) (id_is origin.source q (is_same origin.source.0 q.0 same)) origin.found;
        shunned = eq_self around;
        accessed = is;
      }
      original_ghost false is q same = rw same (record {
        object = origin.object;
        there = subst (λ (u : Id). object_at s.heap u ≡ Some origin.object) (id_is origin.source q (is_same origin.source.0 q.0 same)) origin.found;
        declared = is;
      })

      original_low : AreLow (is_this origin.source) s.masters s.heap
      original_low q y is found listed =
          let stored = stored_unblanked (hiding (owners_left (known_in program a.procedure gs).program.types x.cell.access (performs c.of c.part ∷ c.tasks)) o) s.heap c.to.works.stored in
          let below = home_low s.heap s.masters q stored y found (listed_out q y found listed stored) in
          omega (arith, below)

      original_shuns : Shunned program origin.source behind s.masters real
      original_shuns = record {
        around = around;
        unnamed = λ q. not (is_access p.types around) && is_this origin.source q;
        reaching =
            operation_reaches p (is_around around) (bare_apart program) (is_this origin.source) (λ q. not (is_access p.types around) && is_this origin.source q) c.number c.b
            (Part o place) behind (record s { activations = a ∷ rest; mode = Running }) c.there original_shunned (original_ghost (is_access p.types around) refl)
            (λ q is. (and_parts (not (is_access p.types around)) (is_this origin.source q) is).1) original_low
            (apart_is origin.source.0 o.0 (λ same. ne (id_is origin.source o same)));
      }

    -- So what is put aside is left alone.
    aside_by : AreCopied p.types s.heap o r l.first owners x.cell.values → LeavesAlone program w o r l.first owners x.cell.values behind s.masters real
    aside_by (inl none) = inl none
    aside_by (inr origin) =
        let forms = confined_body p well c.number c.b c.there w.tracks components simple_so in
        inr (record {
          reaches = reaches_record p.types components.object;
          beside = beside_record;
          within = within_record;
          confined = record { control = ((forms.declarations, forms.statements, forms.handlers), tt); operands = tt };
          copied = origin;
          original = elim (same_id origin.source o) [ inl itself ↦ inl itself | inr ne ↦ inr (ne, original_shuns origin ne) ];
        })

    left_alone : LeftAlone program x.cell.access r c.tasks w o owners x.cell.values behind s.masters real
    left_alone = (
      left_called p.types x.cell.access r (performs c.of c.part ∷ c.tasks) l c.of c.part refl,
      subst (λ (to : ℕ). LeavesAlone program w o r to owners x.cell.values behind s.masters real)
          (sym (called_first p.types x.cell.access r (performs c.of c.part ∷ c.tasks) l c.of c.part refl))
          (aside_by (copied_fewer p.types s.heap o r l.first (owners_left p.types x.cell.access (performs c.of c.part ∷ c.tasks)) owners x.cell.values
          (λ d has. Contains-append_right (part_owners p.types x.cell.access (record { of = c.of; number = c.part })) owners d has) both.1)),
    )

    -- So it begins.
    begins_so :
        is_tracker p c.number ≡ true → Stands program gs (record s { activations = a ∷ rest }) → IsCalm (behind_call k) → AreCalls gs
        → CallApart p.types (is_tracker p) k → ((u : Value) → u ≢ Names o → NothingBegins u k) → AdjustsIn program o x.cell.access r c.tasks behind s.masters w begun
    begins_so tracker stands calm settled behind_apart untreated =
        let kept = keeps_tracking program c.number w.tracks in
        let waiting = resting a.procedure a.places (begins c.by c.done) o x.cell.access [] place behind s.masters kept at.works.rooms at.works.holds in
        adjusting_begins program c.number c.b c.there w lone components a rest gs s k o aside heap place refl within c.by c.done behind kept may_free r c.tasks at
        frees_no_more frees_bare (out_blanked (hiding owners o) s.heap out) (of_copy c.by c.copies) refl tracker orderly none_other tracks.0 shuns may thrifty simple
        (judged_lets_none program well none_out copies x.cell.access c.of c.part c.number c.b (called_operable program well x.cell.access r c.of c.part c.tasks left) c.there
        (adjust_called c.by (operations_of program.types.items c.of) c.number c.copies c.called) w.tracks components orderly)
        (calls_apart behind_apart)
        (λ spares. judged_runs program c.number c.b w.tracks waiting gs well obeys.1 c.there refl components orderly spares refl)
        (begins_as_judged program c.number c.b c.there w lone components a rest gs s k o aside heap place refl within c.by c.done behind kept may_free r c.tasks at watches)
        judged_typed e c.of (alters_aside owners s.heap e o x c.to.found) awaited stands calm settled untreated

    -- And so it begins in the real state.
    copy_so :
        is_tracker p c.number ≡ true → Stands program gs (record s { activations = a ∷ rest }) → IsCalm (behind_call k) → AreCalls gs
        → CallApart p.types (is_tracker p) k → ((u : Value) → u ≢ Names o → NothingBegins u k) → AdjustingCopy program real
    copy_so tracker stands calm settled behind_apart untreated =
        let f = begins_so tracker stands calm settled behind_apart untreated in
        record {
          object = o;
          owners = owners;
          adjusting = f.adjusting;
          same = f.object_is;
          owned =
              sym (ap (λ (access : ℕ). owners_left p.types access f.adjusting.tasks) f.access_is ∙ ap (λ (ts : List Task). owners_left p.types x.cell.access ts) f.left_is);
          x = x;
          found = c.to.found;
          left =
              same_alone program x.cell.access r c.tasks w behind s.masters f.adjusting.access f.adjusting.record_type f.adjusting.tasks f.adjusting.w
              f.adjusting.behind f.adjusting.lower f.access_is f.record_is f.left_is f.view_is f.behind_is f.lower_is o owners x.cell.values real left_alone;
          sparing =
              same_sparing program o x.cell.access behind s.masters f.adjusting.w.object f.adjusting.access f.adjusting.behind f.adjusting.lower
              (ap (λ (view : View). view.object) f.view_is) f.access_is f.behind_is f.lower_is real looks_elsewhere;
        }

-- The body begins.
pub adjusting_starts :
    (program : Program) → IsWellFormed (program_form program) → Obeys program → LetsNothingOut (program_form program) → copies_parts (program_form program) ≡ true
    → SparesAdjusted (program_form program) → SparesOwn program
    → (a : Activation Value) (rest : List (Activation Value)) (s : State) (gs : List Suspension) (v : Value) (k : Control) (IsOperated : Treatment → Id → ℕ → Type 0) (e : Event) (after : State)
    → (c : BeginsAdjust (known_in program a.procedure gs) a rest s program.types.items (body_forms program) v k IsOperated e after)
    → MayTrack (program_form program) c.b → is_tracker (program_form program) c.number ≡ true
    → AreFilled (program_form program).types (cells_of s.heap) (cells_of s.heap) → AllOut s.heap → typed.Typed (program_form program) after
    → Stands program gs (record s { activations = a ∷ rest }) → IsCalm (behind_call k) → AreCalls gs
    → CallApart (program_form program).types (is_tracker (program_form program)) k → ((u : Value) → u ≢ Names c.to.o → NothingBegins u k)
    → AdjustingCopy program after
adjusting_starts program well obeys none_out copies spares_adjusted spares_own a rest s gs v k IsOperated e after c tracks tracker filled out typing stands calm settled behind_apart untreated =
    subst (AdjustingCopy program) (sym c.is)
    (copy_so program well obeys none_out copies spares_adjusted spares_own a rest s gs v k IsOperated e after c tracks filled out typing tracker stands calm settled behind_apart untreated)
