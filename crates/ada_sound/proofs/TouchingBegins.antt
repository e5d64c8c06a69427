-- The body of an operation that touches storage begins in a sound state (7.6, 7.6.1): its formal parameter stands for a record in the object that is treated, and of
-- what it may free no suspended activation has an alias.

use Rattle.ada_meaning.specs.declared.state.Mode.TheVariants.{Running}
use Rattle.std.proofs.Common.{◌⊎◌, ◌≡◌, ◌≢◌, ℕ, zero, suc, true, List, [], ◌∷◌, ◌++◌, length, map, take, refl, sym, ap, subst, ◌∙◌, inl, inr, false}
use Rattle.std.specs.Prelude.{Some}
use Rattle.std.specs.List.{slice_get}
use Rattle.ada_deeds.specs.Implicit.{implicit_of}
use Rattle.ada_effects.specs.Effects.{body_frees, effects_of}
use Rattle.ada_program.specs.declared.program.FormalMode.{FormalMode}
use Rattle.ada_program.specs.declared.program.FormalMode.TheVariants.{In, InOut}
use Rattle.ada_parts.specs.Task.{Task}
use Rattle.ada_program.specs.declared.program.Program.{Program}
use Rattle.ada_program.specs.declared.program.TypeNo.{TypeNo}
use Rattle.ada_program.specs.declared.program.VariableKind.TheVariants as variable_kinds
use Rattle.ada_program.specs.ProgramForm.{TypeForm, VariableForm, BodyForm, ProgramForm, program_form, body_forms, main_body, seen_in, seen_by}
use Rattle.ada_program.specs.WellFormed.{IsWellFormed, formal_kinds, is_access, variable_kind}
use Rattle.ada_quiet.specs.Frugal.{is_frugal_body, thrift_of}
use Rattle.ada_flow.specs.declared.rule.Hold.TheVariants as hold
use Rattle.ada_flow.specs.declared.rule.Region.TheVariants.{Whole}
use Rattle.ada_flow.specs.Flow.{formal_hold, Holds, body_keeps, first_holds, gone_with, hold_at, keeping_of, variable_access}
use Rattle.ada_flow.specs.Tracking.{no_tracks}
use Rattle.ada_meaning.specs.declared.state.Id.{Id}
use Rattle.ada_meaning.specs.declared.state.Place.{Place}
use Rattle.ada_meaning.specs.declared.state.Value.{Value}
use Rattle.ada_meaning.specs.declared.state.Value.TheVariants.{Names, Part}
use Rattle.ada_meaning.specs.Frame as frame
use Rattle.ada_meaning.specs.Frame.{Elaborates, Returns, Treatment}
use Rattle.ada_meaning.specs.State.{Activation, Master, height}
use Rattle.ada_meaning.specs.Step.{given_places, operating}
use Rattle.ada_meaning.specs.Named.{Object, State, named, object_at}
use Rattle.ada_meaning.specs.Run.{Event}
use Rattle.ada_owners.specs.Places.{access_at, is_there}
use Rattle.ada_owners.specs.Reliance.{Owns, Borrows, Says}
use Rattle.ada_typed.proofs.Bodies.{seen_as}
use Rattle.ada_sound.proofs.Activations.{called_fit}
use Rattle.ada_sound.proofs.Alters.{Alters}
use Rattle.ada_sound.proofs.BegunOutside.{begun_owned, owned_behind}
use Rattle.ada_sound.proofs.Bodies.{IsBody, seen_is}
use Rattle.ada_sound.proofs.BodyRuns.{body_runs}
use Rattle.ada_sound.proofs.Callers.{Suspension, caller_of, callers_of, known_in, Stands}
use Rattle.ada_sound.proofs.Touching.{AdjustsBy, CoversBy, Enters, Pause, Rests, under_way, Watched, holding, origin}
use Rattle.ada_sound.proofs.SparesOwn.{spares_end}
use Rattle.ada_sound.specs.Agreement.{running_procedure}
use Rattle.ada_sound.specs.Always.{SparesOwn}
use Rattle.ada_sound.proofs.Fits.{Fit, IsOwnedOutside, IsPlace, IsReferred, IsSaid, IsWithin, NoOuterAlias, none_spared, outer_access, outer_hold, place_at, Reference}
use Rattle.ada_sound.proofs.Held.{fit_held, held_borrows, held_lies, holder_if, with_held}
use Rattle.ada_sound.proofs.Invariant.{Control, CoveredIn, Known, LiesBelow, OneAwaits, Ready, RunsOn, Spares, outer_of, outers, body_among, IsAwaited}
use Rattle.ada_sound.proofs.Operating.{WaitsFor, behind_operation, lets_out}
use Rattle.ada_sound.proofs.Orderings.{as_good}
use Rattle.ada_sound.proofs.Returns.{same_types}
use Rattle.ada_sound.proofs.Starts.{Obeys, untracked_body_obeys, lost_first, none_out, none_on}
use Rattle.ada_sound.proofs.Trackers.{untracked_by}
use Rattle.ada_quiet.specs.Apart.{is_tracker}
use Rattle.ada_sound.proofs.Stored.{stored_entered}
use Rattle.ada_sound.proofs.Waiting.{stands_kept}
use Rattle.ada_program.specs.declared.program.Exception.{Exception}
use Rattle.ada_meaning.specs.declared.event.Birth.TheVariants.{Creation, Copy, Adjustment}
use Rattle.ada_meaning.specs.declared.event.Cause.{Cause}
use Rattle.ada_parts.specs.Part as parts

-- The body of an operation that touches storage has begun, in a master of its own: the activation that waits for it, in front of these, goes on behind it, with this
-- treatment, and in the masters that were entered before.
pub record Begun (program : Program) (gs : List Suspension) (treatment : Treatment) (behind : Control) (lower : List Master) (after : State) : Type 0 where
  pub pause : Pause program 0 after
  pub suspensions : pause.suspensions ≡ gs
  pub treated : pause.treatment ≡ treatment
  pub is_behind : pause.behind ≡ behind
  pub is_lower : pause.lower ≡ lower
  pub ready : Ready (known_in program (running_procedure after) (origin program 0 after pause ∷ gs)) after
  pub stands : Stands program (origin program 0 after pause ∷ gs) after
  pub runs : running_procedure after ≡ Some pause.number
  pub frugal : is_frugal_body (thrift_of (program_form program)) pause.is_body.0 ≡ true
  pub before : State
  pub is : after ≡ operating named pause.number pause.is_body.0 (Part pause.object pause.place) behind before
  pub masters : before.masters ≡ lower

-- The only formal parameter of an operation is a record: its body borrows what that refers to, and relies on no other variable.
pub record IsAlone (b : BodyForm) : Type 0 where
  pub object : TypeNo
  pub is : variable_kind b.variables 0 ≡ Some (variable_kinds.Record object)
  pub first : hold_at (first_holds b.formals b.variables) 0 ≡ hold.Alias Whole
  pub others : (i : ℕ) → hold_at (first_holds b.formals b.variables) (suc i) ≡ hold.Lost

alone_by : (formals : List FormalMode) (variables : List VariableForm) (object : TypeNo) → map (λ (v : VariableForm). v.kind) (take (length formals) variables) ≡ variable_kinds.Record object ∷ []
    → (variable_kind variables 0 ≡ Some (variable_kinds.Record object)) × (hold_at (first_holds formals variables) 0 ≡ hold.Alias Whole) × ((i : ℕ) → hold_at (first_holds formals variables) (suc i) ≡ hold.Lost)
alone_by [] variables object is = absurd (cc is)
alone_by (m ∷ ms) [] object is = absurd (cc is)
alone_by (m ∷ ms) (v ∷ vs) object is = (ap Some kind, rw kind (borrowed m), later ms vs rest)
  where
    kind : v.kind ≡ variable_kinds.Record object
    kind = cc is

    rest : map (λ (w : VariableForm). w.kind) (take (length ms) vs) ≡ []
    rest = cc is

    borrowed : (mode : FormalMode) → formal_hold mode (variable_kinds.Record object) ≡ hold.Alias Whole
    borrowed In = refl
    borrowed InOut = refl

    later : (ns : List FormalMode) (ws : List VariableForm) → map (λ (w : VariableForm). w.kind) (take (length ns) ws) ≡ [] → (i : ℕ) → hold_at (first_holds ns ws) i ≡ hold.Lost
    later [] ws none i = lost_first ws i
    later (n ∷ ns) [] none i = refl
    later (n ∷ ns) (w ∷ ws) none i = absurd (cc none)

pub alone : (b : BodyForm) (object : TypeNo) → formal_kinds b ≡ variable_kinds.Record object ∷ [] → IsAlone b
alone b object is = let by = alone_by b.formals b.variables object is in record { object = object; is = by.0; first = by.1; others = by.2 }

-- What is referred to among these is so among the first ones, or among the others.
referred_split : (first others : List Reference) (o : Id) (t : ℕ) → IsReferred (first ++ others) o t → IsReferred first o t ⊎ IsReferred others o t
referred_split [] others o t is = inr is
referred_split (r ∷ first) others o t (inl same) = inl (inl same)
referred_split (r ∷ first) others o t (inr is) = elim (referred_split first others o t is) [ inl one ↦ inl (inr one) | inr other ↦ inr other ]

module _ (program : Program) (well : IsWellFormed (program_form program)) (obeys : Obeys program) (number : ℕ) (apart : is_tracker (program_form program) number ≡ false) (b : BodyForm) (there : slice_get (body_forms program) number ≡ Some b) (lone : IsAlone b) (a : Activation Value) (rest : List (Activation Value)) (gs : List Suspension) (s : State) (k : Control) (o : Id) (x : Object) (heap : List Object) (found : object_at heap o ≡ Some x) (exists : is_there x.stage ≡ true) (place : Place)
    (within : IsWithin (program_form program).types (variable_kind b.variables 0) x.cell.access place.component) (treatment : Treatment) (frugal : is_frugal_body (thrift_of (program_form program)) b ≡ true) (spares_own : SparesOwn program) (at : Enters (known_in program a.procedure gs) treatment o x k heap a.places a.operands s.masters) (behind : Control) where
  abbrev p : ProgramForm
  p = program_form program

  abbrev known : Known
  known = known_in program a.procedure gs

  abbrev own : ProgramForm
  own = seen_in (Some number) p

  abbrev waiting : Suspension
  waiting = holding at.held a.procedure a.places treatment o x.cell.access at.also place behind s.masters (body_keeps own.types (effects_of (implicit_of p) own) (keeping_of (implicit_of p) own) no_tracks (main_body own)) at.rooms at.holds

  abbrev body : Known
  body = known_in program (Some number) (waiting ∷ gs)

  abbrev begins : List Value
  begins = given_places named (Part o place ∷ []) b.variables

  abbrev first : Holds
  first = first_holds b.formals b.variables

  none_own : (i : ℕ) → Owns (hold_at first i) → ⊥
  none_own zero own' = rw lone.first at own'
  none_own (suc i) own' = rw (lone.others i) at own'

  right : (i : ℕ) (p' : Id) → place_at begins i ≡ Names p' → Says (access_at heap) (hold_at first i) (variable_access b.variables i) p'
  right zero p' names = absurd (cc names)
  right (suc i) p' names = rw (lone.others i) tt

  said : (i : ℕ) → IsSaid (place_at (Part o place ∷ []) i) (hold_at first i) (place_at begins i)
  said zero = rw lone.first tt
  said (suc i) = rw (lone.others i) tt

  objects : (i : ℕ) → hold_at first i ≢ hold.Lost → IsPlace known.program.types ((record { object = o; access = x.cell.access } ∷ at.also) ++ (outers known).referenced) (variable_kind b.variables i) (place_at begins i)
  objects zero ne = (rw lone.is refl, x.cell.access, inl (refl, refl), subst (λ (types : List TypeForm). IsWithin types (variable_kind b.variables 0) x.cell.access place.component) (sym (same_types a.procedure p)) within)
  objects (suc i) ne = absurd (ne (lone.others i))

  refers : (p' : Id) (t : ℕ) → IsReferred (record { object = o; access = x.cell.access } ∷ at.also) p' t → access_at heap p' ≡ Some t
  refers p' t (inl (same, of)) = rw (← same, ← of) (rw (found, exists) refl)
  refers p' t (inr other) = at.there p' t other

  begun_fit : Fit known.program.types b.variables (outers body) none_spared heap begins first
  begun_fit =
      called_fit known.program.types (with_held (holder_if at.held o x.cell.access) (outers known)) (outer_of (caller_of program waiting gs)) (Part o place ∷ []) (record { object = o; access = x.cell.access } ∷ at.also) (under_way treatment o) none_spared heap b.variables begins first at.holds (fit_held at.held o x.cell.access at.hand at.fit)
      (as_good at.holds) (λ y own'. own') (λ i own'. absurd (none_own i own')) (λ i j own' other same. absurd (none_own i own')) right said objects refers

  body_fit : Fit own.types own.variables (outers body) none_spared heap begins first
  body_fit =
      let same : known.program.types ≡ (seen_by number b p).types = same_types a.procedure p in
      let now : Fit (seen_by number b p).types (seen_by number b p).variables (outers body) none_spared heap begins first = rw same at begun_fit in
      rw (seen_as p number b there) now

  -- What the body may free, the treatment of the object may. It may not free the object itself: the end of an object frees none of its own type, nor does its
  -- adjustment, and one that is initialized is owned outside of the body.
  module _ (frees : (t : ℕ) → CoveredIn (implicit_of p) own t → at.may t ≡ true) (covers_by : (t : ℕ) → CoveredIn (implicit_of p) own t → CoversBy p treatment x.cell.access t) (lets : (e : Exception) → body_among (implicit_of p) own e ≡ true → lets_out (implicit_of p) x.cell.access treatment e ≡ true) where
    -- An object that is finalized is of no type that the body may free.
    other_type : (cause : Cause) → treatment ≡ frame.ends cause → (t : ℕ) → CoveredIn (implicit_of p) own t → is_access known.program.types t ≡ true → x.cell.access ≡ t → ⊥
    other_type cause is t covered access same =
        let accessed : is_access p.types t ≡ true = subst (λ (types : List TypeForm). is_access types t ≡ true) (same_types a.procedure p) access in
        let ended : (implicit_of p).end_frees x.cell.access t ≡ true = subst (λ (by : Treatment). CoversBy p by x.cell.access t) is (covers_by t covered) in
        let spared = (spares_end p spares_own t accessed).0 in
        let freed : (implicit_of p).end_frees t t ≡ true = rw same at ended in
        cc (spared, freed)

    -- Nor is one that is adjusted.
    abbrev AdjustsOwn : Treatment → Type 0
    AdjustsOwn by = (t : ℕ) → CoversBy p by x.cell.access t → (implicit_of p).adjust_frees x.cell.access t ≡ true

    other_copy : (by : Treatment) → treatment ≡ by → AdjustsOwn by → (t : ℕ) → CoveredIn (implicit_of p) own t → is_access known.program.types t ≡ true → x.cell.access ≡ t → ⊥
    other_copy by is adjusts t covered access same =
        let accessed : is_access p.types t ≡ true = subst (λ (types : List TypeForm). is_access types t ≡ true) (same_types a.procedure p) access in
        let adjusted : (implicit_of p).adjust_frees x.cell.access t ≡ true = adjusts t (subst (λ (way : Treatment). CoversBy p way x.cell.access t) is (covers_by t covered)) in
        let spared = (spares_end p spares_own t accessed).1 in
        let freed : (implicit_of p).adjust_frees t t ≡ true = rw same at adjusted in
        cc (spared, freed)

    -- One that is initialized is owned outside of the body.
    owned_now : (done : List parts.Part) → treatment ≡ frame.begins Creation done → IsOwnedOutside (outers body) o
    owned_now done is =
        begun_owned known done at.held at.watch o x.cell.access x.cell.home a.places a.operands at.also k s.masters at.rooms at.holds known.program.variables
        (outers known).suspended
        (subst (λ (way : Treatment). Rests known way at.held at.watch o x.cell.access x.cell.home a.places a.operands at.also k s.masters at.rooms at.holds) is at.rests)

    no_outer : (t : ℕ) → CoveredIn (implicit_of p) own t → NoOuterAlias known.program.types (outers body) t
    no_outer t may' = (
      (λ d y of b'. (by_depth d y of b')),
      (λ p' is access. by_reference p' is access),
    )
      where
        ends : at.may t ≡ true
        ends = frees t may'

        by_depth : (d y : ℕ) → outer_access (slice_get (outers body).suspended d) y ≡ Some t → Borrows (outer_hold (slice_get (outers body).suspended d) y) → ⊥
        by_depth zero y of b' = at.unaliased y t of ends b'
        by_depth (suc d) y of b' = held_borrows at.held o x.cell.access (outers known).suspended t (at.spares t ends).0.0 d y of b'

        by_reference : (p' : Id) → IsReferred (outers body).referenced p' t → is_access known.program.types t ≡ true → IsOwnedOutside (outers body) p'
        by_reference p' (inl (same, of)) access = subst (IsOwnedOutside (outers body)) same (by treatment refl)
          where
            by : (way : Treatment) → treatment ≡ way → IsOwnedOutside (outers body) o
            by (frame.begins Creation done) way = owned_now done way
            by (frame.begins Copy done) way = absurd (other_copy (frame.begins Copy done) way (λ u covers. covers) t may' access of)
            by (frame.begins (Adjustment n) done) way = absurd (other_copy (frame.begins (Adjustment n) done) way (λ u covers. covers) t may' access of)
            by (frame.ends cause) way = absurd (other_type cause way t may' access of)
        by_reference p' (inr is) access = owned_behind program waiting gs p' (by (referred_split at.also (outers known).referenced p' t is))
          where
            by : IsReferred at.also p' t ⊎ IsReferred (outers known).referenced p' t → IsOwnedOutside (outers known) p'
            by (inl other) = at.kept p' t other ends access
            by (inr outer) = (at.spares t ends).0.1 p' outer access

    spares : Spares body (body_frees own.types (effects_of (implicit_of p) own) (main_body own))
    spares t may = (subst (λ (types : List TypeForm). NoOuterAlias types (outers body) t) (same_types a.procedure p ∙ sym (same_types (Some number) p)) (no_outer t may), may)

    covers : (t : ℕ) → CoveredIn (implicit_of p) own t → CoveredIn (implicit_of p) known.program t
    covers t may = (at.spares t (frees t may)).1

    abbrev is_body : IsBody p (Some number)
    is_body = (b, there)

    same_body : main_body own ≡ b
    same_body = ap main_body (seen_is p number b there)

    runs : RunsOn body (Elaborates b.declarations b.statements b.handlers ∷ Returns [] [] ∷ behind) (gone_with b.declarations ∷ []) first
    runs =
        subst (λ (c : BodyForm). RunsOn body (Elaborates c.declarations c.statements c.handlers ∷ Returns [] [] ∷ behind) (gone_with c.declarations ∷ []) (first_holds c.formals c.variables)) same_body
        (body_runs program (Some number) (waiting ∷ gs) (untracked_body_obeys program number b there (untracked_by (program_form program) number b apart) obeys.1) (none_out program (Some number) well) (none_on program (Some number) well) spares refl)

    -- What the waiting activation refers to lies in masters that were entered before, or it has gone with its collection where an operation runs around.
    abbrev Lies : Id → Type 0
    Lies q = LiesBelow heap (height s.masters) (OneAwaits (callers_of program gs)) q

    referred_low : (q : Id) (t : ℕ) → IsReferred (record { object = o; access = x.cell.access } ∷ at.also) q t → Lies q
    referred_low q t (inl (same, of)) = subst Lies same at.lies
    referred_low q t (inr other) = at.others_low q t other

    pub touching_begins : (e : Event) (of : ℕ) (tasks : List Task) → AdjustsBy known treatment x.cell.access tasks k at.rooms at.holds → Alters s.heap e heap → WaitsFor (program_form program).types o of treatment tasks k behind → IsAwaited behind → Stands program gs (record s { activations = a ∷ rest })
        → Watched program at.watch behind s.masters (operating named number b (Part o place) behind (record s { activations = a ∷ rest; heap = heap; mode = Running }))
        → (begun : Begun program gs treatment behind s.masters (operating named number b (Part o place) behind (record s { activations = a ∷ rest; heap = heap; mode = Running }))) × (begun.pause.object ≡ o) × (begun.pause.after ≡ k)
    touching_begins e of tasks adjusts alters awaited waited stands watched =
        let before = record s { activations = a ∷ rest; heap = heap; mode = Running } in
        let after = operating named number b (Part o place) behind before in
        let still = stands_kept program (record s { activations = a ∷ rest }) (behind_operation (a ∷ rest) behind s.masters after) gs stands e (record { procedure = refl; suspended = refl }) alters in (
          record {
            pause = record {
              number = number;
              is_body = is_body;
              procedure = a.procedure;
              places = a.places;
              suspensions = gs;
              object = o;
              place = place;
              x = x;
              found = found;
              access = x.cell.access;
              of_access = refl;
              home = x.cell.home;
              at_home = refl;
              treatment = treatment;
              of = of;
              behind = behind;
              after = k;
              tasks = tasks;
              awaited = awaited;
              lower = s.masters;
              kept = waiting.kept;
              rooms = at.rooms;
              holds = at.holds;
              waits = at.waits;
              covers = covers_by;
              also = at.also;
              operands = a.operands;
              computed = refl;
              held = at.held;
              watch = at.watch;
              still = watched;
              rests = at.rests;
              adjusts = adjusts;
              lets = lets;
            };
            suspensions = refl;
            treated = refl;
            is_behind = refl;
            is_lower = refl;
            ready = (
              tt,
              record {
                rooms = gone_with b.declarations ∷ [];
                holds = first;
                stored = stored_entered s.next at.stored;
                roomed = (tt, refl);
                fit = body_fit;
                rest = runs;
              },
            );
            stands = record {
              body = is_body;
              behind = ([], [], behind, refl);
              bodies = (refl, stands.body, stands.behind, stands.bodies, refl);
              standing = record {
                suspended = (refl, stands.standing.suspended);
                waiting = (inr (record { roomed = at.waits.roomed; covers = covers; operated = waited }), stands.standing.waiting);
                low = (at.low, referred_low, at.under_low, still.standing.low, held_lies at.held o x.cell.access Lies at.lies);
              };
            };
            runs = refl;
            frugal = frugal;
            before = before;
            is = refl;
            masters = refl;
          },
          refl,
          refl,
        )
