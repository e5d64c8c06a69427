-- The end of a body while an operation that touches storage is under way (6.5, 7.6.1): that of the outermost operation, of the operation of an object that is
-- freed, undone, allocated or declared, or whose master is left, or of a procedure that was called.

use Rattle.std.proofs.Common.{◌≡◌, ℕ, List, [], ◌∷◌, refl, sym, ap, subst, ◌∙◌, inl, inr, ◌++◌, ◌+◌, drop, length, suc}
use Rattle.std.specs.Prelude.{Option, Some}
use Rattle.ada_finalized.specs.Law.{finalized_before}
use Rattle.ada_flow.specs.Flow.{Holds}
use Rattle.ada_program.specs.declared.program.Program.{Program}
use Rattle.ada_program.specs.declared.program.TypeDefinition.{TypeDefinition}
use Rattle.ada_program.specs.Form.{ActualForm}
use Rattle.ada_program.specs.ProgramForm.{ProgramForm, BodyForm, program_form, body_forms, seen_in}
use Rattle.ada_meaning.specs.declared.state.Mode.{Mode}
use Rattle.ada_meaning.specs.declared.state.Mode.TheVariants.{Running, Raising, Exiting, Returning}
use Rattle.ada_meaning.specs.declared.state.Value.{Value}
use Rattle.ada_meaning.specs.declared.state.Value.TheVariants.{Null, Names}
use Rattle.ada_meaning.specs.Event.{Quiet}
use Rattle.ada_meaning.specs.Frame as frame
use Rattle.ada_meaning.specs.Frame.{Returns}
use Rattle.ada_meaning.specs.State.{Activation, Master}
use Rattle.ada_meaning.specs.Step.{moves, procedure_of, storing, operands_of}
use Rattle.ada_meaning.specs.Named.{State, named, next}
use Rattle.ada_typed.specs.Holding.{Cells, cells_of}
use Rattle.ada_typed.proofs.Control as typed
use Rattle.ada_typed.proofs.Kept.{behind_call, Each}
use Rattle.ada_sound.proofs.Allowance.{Allowance}
use Rattle.ada_sound.proofs.Alters.{alters_same}
use Rattle.ada_sound.proofs.CallBegins.{placed_in}
use Rattle.ada_sound.proofs.Callers.{AreOf, IsCall, Stands, Suspension, known_in, none_awaits}
use Rattle.ada_sound.proofs.FrugalControl.{Frugal, FrugalLeads, MayBegin, frugal_ends, frugal_returns, none_operated, operated_in, operated_on, operated_shorter}
use Rattle.ada_sound.proofs.Invariant.{Control, GoesOn, IsAwaited, Ready, Roomed, Rooms, Working, below}
use Rattle.ada_sound.proofs.Operating.{IsCalm, behind_operation}
use Rattle.ada_sound.proofs.OperationStarts.{is_awaited}
use Rattle.ada_sound.proofs.Pauses.{AllWatched, inner_on, pause_on}
use Rattle.ada_sound.proofs.Returns.{CrossesTo, crosses_to, same_control, left_to, resumed_in, behind_call as behind_mode, behind_frames, behind_body}
use Rattle.ada_sound.proofs.Grounds.{Grounds}
use Rattle.ada_sound.proofs.Touching.{AreInner, IsOperation, Pause, Touching, Watched, operated_among, origin}
use Rattle.ada_sound.proofs.TouchingEnds.{none_departs, touching_ends, touching_out}
use Rattle.ada_sound.proofs.TouchingGoes.{InTouching, Went, behind_it, none_end, operands_deeper, outermost, thrifty, touching_on, with_parts}
use Rattle.ada_sound.proofs.TouchingStands.{IsAmong, later_among, operated_is, operated_once, touching_unlisted}
use Rattle.ada_sound.proofs.TouchingWatched.{AllGoOnInside, all_watched, watched_stays}

-- Where components get something back, that goes on in front.
storing_leads :
    (frugal : Allowance) (behind : Control) (among references : List Value) (k : Control) (ms : List Master) → FrugalLeads frugal behind among k ms
    → FrugalLeads frugal behind among (storing named references k) ms
storing_leads frugal behind among [] k ms q = q
storing_leads frugal behind among (v ∷ vs) k ms q = (tt, storing_leads frugal behind among vs k ms q)

-- Behind the end of a body that was called, the body goes on that called it.
back_frugal :
    (frugal : Allowance) (behind : Control) (among : List Value) (mode : Mode) (references : List Value) (k : Control) (ms : List Master)
    → FrugalLeads frugal behind among k ms → Frugal frugal behind among (behind_mode mode) (behind_frames mode references k) ms
back_frugal frugal behind among Running references k ms q = inl (storing_leads frugal behind among references k ms q)
back_frugal frugal behind among (Raising e) references k ms q = inl q
back_frugal frugal behind among Exiting references k ms q = inl q
back_frugal frugal behind among Returning references k ms q = inl (storing_leads frugal behind among references k ms q)

-- The activation that goes on behind a body is of the procedure that it was of.
back_runs : (mode : Mode) (actuals : List ActualForm) (values : List Value) (b : Activation Value) (rest : List (Activation Value)) → procedure_of (behind_body mode actuals values (b ∷ rest)) ≡ b.procedure
back_runs Running actuals values b rest = refl
back_runs (Raising e) actuals values b rest = refl
back_runs Exiting actuals values b rest = refl
back_runs Returning actuals values b rest = refl

back_operands : (count : ℕ) (mode : Mode) (actuals : List ActualForm) (values : List Value) (b : Activation Value) (rest : List (Activation Value)) → operands_of (drop (suc count) (behind_body mode actuals values (b ∷ rest))) ≡ operands_of (drop count rest)
back_operands count Running actuals values b rest = refl
back_operands count (Raising e) actuals values b rest = refl
back_operands count Exiting actuals values b rest = refl
back_operands count Returning actuals values b rest = refl

-- What waits for a body has an activation.
no_rest : (program : Program) (inner : List Suspension) (g : Suspension) (gs : List Suspension) → AreOf program [] (inner ++ g ∷ gs) → ⊥
no_rest program [] g gs of = of
no_rest program (h ∷ hs) g gs of = of

-- The end of a body; and that of an operation.
abbrev at_end : List ActualForm → (references : List Value) → Control → Control
at_end actuals references k = Returns actuals references ∷ k

last_end : (actuals : List ActualForm) (references : List Value) (k behind : Control) → actuals ≡ [] → references ≡ [] → k ≡ behind → at_end actuals references k ≡ at_end [] [] behind
last_end actuals references k behind none nothing same = rw (none, nothing, same) refl

-- What waits for the end of the body of an operation gave it no actual parameters.
gave_nothing : (own : ProgramForm) (cells : Cells) (kinds : List _) (actuals : List ActualForm) (references : List Value) (k : Control) (a : Activation Value) → IsAwaited k → typed.WaitsBy own cells kinds actuals references k a → (actuals ≡ []) × (references ≡ [])
gave_nothing own cells kinds actuals references k a awaited (typed.for_operation waits) = (waits.no_actuals, waits.no_references)
gave_nothing own cells kinds actuals references k a awaited (typed.for_call waits) = absurd (by k awaited waits.fits)
  where
    by : (j : Control) → IsAwaited j → typed.Fits own cells [] j → ⊥
    by [] waits fits = waits
    by (frame.Awaits v birth done of part tasks ∷ j) waits fits = fits
    by (frame.Confines ∷ j) waits fits = fits
    by (f ∷ j) waits fits = waits

-- The object of which the Finalize comes to its end in front of this.
abbrev pub ended_in : Control → Value
ended_in [] = Null
ended_in (frame.Confines ∷ k) = finalized_before k
ended_in (g ∷ k) = Null

-- The end of a body: that of the outermost operation, or one since then.
module _ (program : Program) (a : Activation Value) (k : Control) (s : State) (mode : Mode) (actuals : List ActualForm) (references : List Value) where
  abbrev form : ProgramForm
  form = program_form program

  abbrev tds : List TypeDefinition
  tds = program.types.items

  abbrev bodies : List BodyForm
  bodies = body_forms program

  -- What is known of what waits is so whatever is left to do.
  restand : (rest : List (Activation Value)) (gs : List Suspension) → Stands program gs (with_parts mode (Returns actuals references ∷ k) (a ∷ rest) s) → Stands program gs (record s { activations = a ∷ rest })
  restand rest gs stands = record {
    body = stands.body;
    behind = stands.behind;
    bodies = stands.bodies;
    standing = record { suspended = stands.standing.suspended; waiting = stands.standing.waiting; low = stands.standing.low };
  }

  module _ (b : Activation Value) (rest : List (Activation Value)) where
    abbrev ending : State
    ending = with_parts mode (Returns actuals references ∷ k) (a ∷ b ∷ rest) s

    abbrev back : State
    back = resumed_in (behind_mode mode) (behind_frames mode references k) (behind_body mode actuals a.places (b ∷ rest)) s

    abbrev LeavesBody : List Suspension → Type 0
    LeavesBody gs = Working (known_in program a.procedure gs) s.heap a.places s.masters (GoesOn (known_in program a.procedure gs) mode (Returns actuals references ∷ k))

    module _ (grounds : Grounds program ending) (f : Touching program ending) (is : next tds bodies ending ≡ moves Quiet back) where
      abbrev waiting : List Suspension
      waiting = behind_it program ending f

      abbrev operation : Pause program (length f.within.inner) ending
      operation = outermost program ending f

      abbrev frugal : Allowance
      frugal = thrifty program ending f

      abbrev Inner : (running : Option ℕ) (depth : ℕ) → List Suspension → Type 0
      Inner running depth inner = AreInner program ending frugal operation.behind operation.lower running depth (Some operation.number) waiting inner

      -- What is watched behind the end.
      outermost_watched : (ending.control ≡ Returns [] [] ∷ operation.behind → ⊥) → Watched program operation.watch operation.behind operation.lower back
      outermost_watched on =
          subst (Each (Watched program operation.watch operation.behind operation.lower)) is
          (watched_stays program f.suspensions ending f.ready grounds operation.watch operation.behind operation.lower operation.still on)

      inner_watched : (running : Option ℕ) (depth : ℕ) (inner : List Suspension) (are : Inner running depth inner)
          → AllGoOnInside program f.suspensions ending f.ready grounds frugal operation.behind operation.lower running depth (Some operation.number) waiting inner are
          → AllWatched program ending frugal operation.behind operation.lower back running depth (Some operation.number) waiting inner are
      inner_watched running depth inner are on =
          subst (Each (λ (after : State). AllWatched program ending frugal operation.behind operation.lower after running depth (Some operation.number) waiting inner are)) is
          (all_watched program f.suspensions ending f.ready grounds frugal operation.behind operation.lower running depth (Some operation.number) waiting inner are on)

      -- The masters of the body have been left.
      left_masters : (g : Suspension) (gs : List Suspension) (rooms : Rooms) (holds : Holds) → Roomed (below (known_in program a.procedure (g ∷ gs))) s.masters rooms → GoesOn (known_in program a.procedure (g ∷ gs)) mode (Returns actuals references ∷ k) rooms holds → s.masters ≡ g.masters
      left_masters g gs [] holds roomed goes = roomed
      left_masters g gs (gone ∷ rooms) holds roomed goes = absurd (by mode goes)
        where
          by : (m : Mode) → GoesOn (known_in program a.procedure (g ∷ gs)) m (Returns actuals references ∷ k) (gone ∷ rooms) holds → ⊥
          by Running never = never
          by (Raising e) never = never
          by Exiting never = never
          by Returning never = never

      -- That of the operation of an object that is freed, undone, allocated or declared, or whose master is left: what is left of its treatment goes on.
      module _ (g : Suspension) (gs : List Suspension) (o : IsOperation program ending frugal operation.behind operation.lower a.procedure 0 (gs ++ waiting) (operated_among gs) g) where
        -- The operations further out are those of other objects, so that their ends are not next.
        ends_other : (running : Option ℕ) (depth : ℕ) (inner : List Suspension) (are : Inner running depth inner) → k ≡ o.pause.behind
            → (IsAmong (Names o.pause.object) (operated_among inner) → ⊥)
            → AllGoOnInside program f.suspensions ending f.ready grounds frugal operation.behind operation.lower running depth (Some operation.number) waiting inner are
        ends_other running depth [] are at other = tt
        ends_other running depth (h ∷ inner) (inl (call, more)) at other =
            ends_other h.procedure (suc depth) inner more at (λ later. other (later_among (Names o.pause.object) (operated_in h.control) (operated_among inner) later))
        ends_other running depth (h ∷ inner) (inr (further, more)) at other =
            (on, ends_other h.procedure (suc depth) inner more at (λ later. other (later_among (Names o.pause.object) (operated_in h.control) (operated_among inner) later)))
          where
            on : ending.control ≡ Returns [] [] ∷ further.pause.behind → ⊥
            on last =
                let one : k ≡ further.pause.behind = cc last in
                let first : operated_in h.control ≡ Names o.pause.object ∷ [] =
                ap (λ (waits : Suspension). operated_in waits.control) further.is ∙ (ap operated_in (sym one ∙ at) ∙ operated_is program 0 ending o.pause) in
                other (subst (λ (vs : List Value). IsAmong (Names o.pause.object) (vs ++ operated_among inner)) (sym first) (inl refl))

        -- What is left to do behind it, in this mode.
        goes_behind : Inner g.procedure (suc 0) gs → f.within.inner ≡ g ∷ gs → Stands program (g ∷ gs ++ waiting) ending → k ≡ o.pause.behind → (m : Mode) → MayBegin m
            → next tds bodies ending ≡ moves Quiet (record (behind_operation (b ∷ rest) o.pause.behind o.pause.lower ending) { mode = m })
            → CrossesTo program o.pause.suspensions s.heap Quiet (record (behind_operation (b ∷ rest) o.pause.behind o.pause.lower ending) { mode = m }) → InTouching program s.heap Quiet back
        goes_behind more inner_is stands control m may goes crosses =
            let after = record (behind_operation (b ∷ rest) o.pause.behind o.pause.lower ending) { mode = m } in
            let reached : back ≡ after = cc (goes, is) in
            let c : CrossesTo program (gs ++ waiting) s.heap Quiet after = subst (λ (others : List Suspension). CrossesTo program others s.heap Quiet after) (sym o.behind_it) crosses in
            let apart = operated_once frugal (Names o.pause.object) operation.behind (operated_among gs) o.pause.behind o.upper (operated_is program 0 ending o.pause) o.leads in
            let watched = subst (λ (u : State). AllWatched program ending frugal operation.behind operation.lower u g.procedure (suc 0) (Some operation.number) waiting gs more) reached
            (inner_watched g.procedure (suc 0) gs more (ends_other g.procedure (suc 0) gs more control apart)) in
            let are = inner_on program ending frugal operation.behind operation.lower after Quiet g.procedure (suc 0) 0 (Some operation.number) waiting gs more c.stepped.alters
            (λ n. operands_deeper n rest a b) watched in
            let further : ending.control ≡ Returns [] [] ∷ operation.behind → ⊥ = λ last. (
            let one : k ≡ operation.behind = cc last in
            operated_shorter frugal operation.behind (operated_in o.pause.behind ++ operated_among gs) o.pause.behind o.upper o.leads (sym control ∙ one)
            ) in
            subst (λ (u : State). InTouching program s.heap Quiet u) (sym reached)
            (touching_on program ending f gs Quiet after
            (subst (λ (running : Option ℕ). AreInner program after frugal operation.behind operation.lower running 0 (Some operation.number) waiting gs) (sym stands.bodies.0) are)
            (sym (ap (λ (all : List Suspension). operands_of (drop (suc (length all)) (a ∷ b ∷ rest))) inner_is))
            (record {
              upper = o.upper;
              masters = o.masters;
              frugally = operated_on frugal operation.behind (operated_among gs) m o.pause.behind o.upper may o.leads;
            })
            (subst (λ (u : State). Watched program operation.watch operation.behind operation.lower u) reached (outermost_watched further))
            c)

        operation_ends : Inner g.procedure (suc 0) gs → f.within.inner ≡ g ∷ gs → Ready (known_in program a.procedure (g ∷ gs ++ waiting)) ending → Stands program (g ∷ gs ++ waiting) ending → LeavesBody (g ∷ gs ++ waiting) → InTouching program s.heap Quiet back
        operation_ends more inner_is ready stands w =
            let pause = o.pause in
            let control : k ≡ pause.behind = same_control program a.procedure g (gs ++ waiting) mode actuals references k w.rooms w.holds w.rest ∙ ap (λ (waits : Suspension). waits.control) o.is in
            let awaits : IsAwaited pause.behind = is_awaited form.types pause.object pause.of pause.treatment pause.tasks pause.after pause.behind pause.awaited in
            let gave = gave_nothing (seen_in b.procedure form) (cells_of s.heap) (typed.kinds_in form a.procedure) actuals references k b (subst IsAwaited (sym control) awaits) grounds.typed.waiting.0 in
            let next_is : ending.control ≡ Returns [] [] ∷ pause.behind = last_end actuals references k pause.behind gave.0 gave.1 control in
            let masters_are : ending.masters ≡ pause.lower = left_masters g (gs ++ waiting) w.rooms w.holds w.roomed w.rest ∙ ap (λ (waits : Suspension). waits.masters) o.is in
            let all_are : g ∷ gs ++ waiting ≡ origin program 0 ending pause ∷ pause.suspensions = ap (λ (waits : Suspension). waits ∷ gs ++ waiting) o.is ∙ ap (λ (others : List Suspension). origin program 0 ending pause ∷ others) o.behind_it in
            let ended = touching_ends program grounds.well ending pause (touching_unlisted program ending grounds pause next_is) (touching_out program ending grounds pause next_is)
            (none_departs program ending pause frugal operation.behind (operated_in pause.behind ++ operated_among gs) o.upper operation.lower o.masters o.leads)
            (subst (λ (all : List Suspension). Ready (known_in program a.procedure all) ending) all_are ready) (subst (λ (all : List Suspension). Stands program all ending) all_are stands)
            o.runs a b rest refl next_is masters_are in
            goes_behind more inner_is stands control ended.0 ended.1 ended.2 ended.3

      -- That of one that was called: its caller goes on.
      call_ends : (g : Suspension) (gs : List Suspension) → IsCall g → Inner g.procedure (suc 0) gs → f.within.inner ≡ g ∷ gs → Stands program (g ∷ gs ++ waiting) ending → LeavesBody (g ∷ gs ++ waiting) → InTouching program s.heap Quiet back
      call_ends g gs call more inner_is stands w =
          let control = same_control program a.procedure g (gs ++ waiting) mode actuals references k w.rooms w.holds w.rest in
          let none : IsAwaited k → ⊥ = λ awaited. call.0 (subst IsAwaited control awaited) in
          let on : (j : Control) → IsAwaited j → ending.control ≡ Returns [] [] ∷ j → ⊥ = λ j awaited last. (let same : j ≡ k = cc last in none (subst IsAwaited same awaited)) in
          let awaits = is_awaited form.types operation.object operation.of operation.treatment operation.tasks operation.after operation.behind operation.awaited in
          let placed = placed_in (seen_in a.procedure form) a (b ∷ rest) ending refl grounds.typed.inside in
          let watched = inner_watched g.procedure (suc 0) gs more (none_end program ending f grounds on g.procedure (suc 0) (Some operation.number) waiting gs more) in
          let among : operated_among f.within.inner ≡ operated_among gs =
          ap operated_among inner_is ∙ ap (λ (vs : List Value). vs ++ operated_among gs) (none_operated g.control call.0) in
          let leads = subst (λ (vs : List Value). FrugalLeads frugal operation.behind vs k f.within.frugal.upper) among
          (frugal_returns frugal operation.behind (operated_among f.within.inner) mode actuals references k f.within.frugal.upper awaits none f.within.frugal.frugally) in
          let c = left_to program a actuals references k s mode b rest g (gs ++ waiting) (restand (b ∷ rest) (g ∷ gs ++ waiting) stands) none placed w in
          let are = inner_on program ending frugal operation.behind operation.lower back Quiet g.procedure (suc 0) 0 (Some operation.number) waiting gs more c.stepped.alters
          (λ n. back_operands (0 + n) mode actuals a.places b rest ∙ operands_deeper n rest a b) watched in
          touching_on program ending f gs Quiet back
          (subst (λ (running : Option ℕ). AreInner program back frugal operation.behind operation.lower running 0 (Some operation.number) waiting gs) (sym (back_runs mode actuals a.places b rest ∙ stands.bodies.0)) are)
          (back_operands (length gs) mode actuals a.places b rest ∙ sym (ap (λ (all : List Suspension). operands_of (drop (suc (length all)) (a ∷ b ∷ rest))) inner_is))
          (record {
            upper = f.within.frugal.upper;
            masters = f.within.frugal.masters;
            frugally = back_frugal frugal operation.behind (operated_among gs) mode references k f.within.frugal.upper leads;
          })
          (outermost_watched (on operation.behind awaits))
          c

      -- That of the outermost operation: what waits for it goes on.
      waits_on : (t : State) → next tds bodies ending ≡ moves Quiet t → CrossesTo program operation.suspensions s.heap Quiet t → t.control ≡ operation.behind → Went program s.heap Quiet back
      waits_on t goes crosses control =
          let same : t ≡ back = cc (goes, is) in
          subst (Went program s.heap Quiet) same (inr (inr (
            crosses_to crosses,
            subst (λ (behind : Control). IsCalm (behind_call behind)) (sym control) f.within.calm,
            f.within.settled,
          )))

      own_ends : f.within.inner ≡ [] → LeavesBody waiting → Went program s.heap Quiet back
      own_ends none w =
          let pause = pause_on program (length f.within.inner) 0 ending ending Quiet operation (alters_same s.heap Quiet) (ap (λ (all : List Suspension). operands_of (drop (suc (length all)) (a ∷ b ∷ rest))) (sym none)) operation.still in
          let control : k ≡ operation.behind = same_control program a.procedure (origin program (length f.within.inner) ending operation) operation.suspensions mode actuals references k w.rooms w.holds w.rest in
          let end = frugal_ends frugal operation.behind (operated_among f.within.inner) mode actuals references k f.within.frugal.upper control f.within.frugal.frugally in
          let next_is : ending.control ≡ Returns [] [] ∷ operation.behind = last_end actuals references k operation.behind end.0 end.1 control in
          let masters_are : ending.masters ≡ operation.lower = f.within.frugal.masters ∙ ap (λ (upper : List Master). upper ++ operation.lower) end.2 in
          let all_are : f.suspensions ≡ waiting = f.within.are ∙ ap (λ (inner : List Suspension). inner ++ waiting) none in
          let ended = touching_ends program grounds.well ending pause (touching_unlisted program ending grounds pause next_is) (touching_out program ending grounds pause next_is)
          (λ departing awaits. none_awaits program operation.suspensions f.within.settled awaits)
          (subst (λ (all : List Suspension). Ready (known_in program a.procedure all) ending) all_are f.ready) (subst (λ (all : List Suspension). Stands program all ending) all_are f.stands)
          (subst (λ (inner : List Suspension). Inner a.procedure 0 inner) none f.within.within) a b rest refl next_is masters_are in
          waits_on (record (behind_operation (b ∷ rest) operation.behind operation.lower ending) { mode = ended.0 }) ended.2 ended.3 refl

      ends_by : (inner : List Suspension) → f.within.inner ≡ inner → Inner a.procedure 0 inner → Ready (known_in program a.procedure (inner ++ waiting)) ending → Stands program (inner ++ waiting) ending → LeavesBody (inner ++ waiting) → Went program s.heap Quiet back
      ends_by [] none are ready stands w = own_ends none w
      ends_by (g ∷ gs) inner_is (inl (call, more)) ready stands w = inl (call_ends g gs call more inner_is stands w)
      ends_by (g ∷ gs) inner_is (inr (o, more)) ready stands w = inl (operation_ends g gs o more inner_is ready stands w)

  pub body_ends :
      (rest : List (Activation Value)) → Grounds program (with_parts mode (Returns actuals references ∷ k) (a ∷ rest) s) → (f : Touching program (with_parts mode (Returns actuals references ∷ k) (a ∷ rest) s))
      → Working (known_in program a.procedure f.suspensions) s.heap a.places s.masters (GoesOn (known_in program a.procedure f.suspensions) mode (Returns actuals references ∷ k))
      → next tds bodies (with_parts mode (Returns actuals references ∷ k) (a ∷ rest) s) ≡ moves Quiet (resumed_in (behind_mode mode) (behind_frames mode references k) (behind_body mode actuals a.places rest) s)
      → Went program s.heap Quiet (resumed_in (behind_mode mode) (behind_frames mode references k) (behind_body mode actuals a.places rest) s)
  body_ends [] grounds f w is = absurd (no_rest program f.within.inner _ f.within.outermost.suspensions (subst (AreOf program []) f.within.are f.stands.bodies))
  body_ends (b ∷ rest) grounds f w is =
      ends_by b rest grounds f is f.within.inner refl f.within.within (subst (λ (all : List Suspension). Ready (known_in program a.procedure all) (ending b rest)) f.within.are f.ready) (subst (λ (all : List Suspension). Stands program all (ending b rest)) f.within.are f.stands)
      (subst (λ (all : List Suspension). LeavesBody b rest all) f.within.are w)
