-- Each step of each program is followed.

use Rattle.std.proofs.Common.{◌≡◌, ℕ, suc, Bool, true, false, List, [], ◌∷◌, Option, Some, None, refl, sym, ◌∙◌, inr, subst, arith}
use Rattle.std.specs.Prelude.{is_some}
use Rattle.std.specs.List.{slice_get}
use Rattle.ada_program.specs.declared.program.TypeDefinition.{TypeDefinition}
use Rattle.ada_program.specs.declared.program.Exception.{Exception}
use Rattle.ada_program.specs.Controlled.{shapes_of}
use Rattle.ada_program.specs.Form.{RecordPathForm, ActualForm, StmtsForm, no_stmts, a_stmt, HandlersForm, DeclarationForm}
use Rattle.ada_program.specs.ProgramForm.{BodyForm}
use Rattle.ada_parts.specs.Part.{Part as PartOf, numbers}
use Rattle.ada_parts.specs.Task.{Task}
use Rattle.ada_meaning.specs.declared.event.Birth.{Birth}
use Rattle.ada_meaning.specs.declared.event.Birth.TheVariants.{Creation, Copy, Adjustment}
use Rattle.ada_meaning.specs.declared.state.Id.{Id}
use Rattle.ada_meaning.specs.declared.state.Value.{Value}
use Rattle.ada_meaning.specs.declared.state.Value.TheVariants.{Names}
use Rattle.ada_meaning.specs.declared.state.Mode.{Mode}
use Rattle.ada_meaning.specs.declared.state.Mode.TheVariants.{Running, Raising, Exiting, Returning}
use Rattle.ada_meaning.specs.declared.event.Cause.TheVariants.{Leaving, Freeing, Assigning, Undoing}
use Rattle.ada_meaning.specs.Event.{Quiet}
use Rattle.ada_meaning.specs.Frame.{ends, Frame, is_master, Landing, passes_on, goes_behind, goes_in, breaks_off, escapes, handler_landing, landing}
use Rattle.ada_meaning.specs.Frame as frame
use Rattle.ada_meaning.specs.State.{Activation, Master}
use Rattle.ada_meaning.specs.Step.{older, operands_of, places_of, with_operands, with_places, storing, treating, references_in, operand_count, newest_ones, begun, returned, frame_next, landed, unwound, pass_next, running_next, jump_next, mode_next, broken_next}
use Rattle.ada_meaning.specs.Named.{Object, State, Next, named, look, lent, next}
use Rattle.ada_meaning.specs.Run.{Event}
use Rattle.ada_program.specs.Handling.{handler_of}
use Rattle.ada_meaning.proofs.Activations.{shape}
use Rattle.ada_meaning.proofs.Kept.{frame_keeps}
use Rattle.ada_storage.specs.State.{Forest, Job}
use Rattle.ada_storage.specs.State as storage
use Rattle.ada_storage.specs.Following.{Goes}
use Rattle.ada_storage.proofs.Invariant.{Alive}
use Rattle.ada_following.specs.Forests.{forest_adjusted, Ends}
use Rattle.ada_following.specs.Reading.{event_seen, mode_seen, part_of}
use Rattle.ada_following.proofs.PartsLeft.{beside}
use Rattle.ada_following.proofs.Heaps.{Heap, alike_same}
use Rattle.ada_following.proofs.Places.{Items}
use Rattle.ada_following.proofs.Frames.{Control, IsCode, Over, same_one, static, listing, but, IsActing, copying, taking, giving_up, undoing, performing, Waits, made, adjusted, undone, assigned_to, Reads, nothing, code, calls, enters, operates, treats_behind, leaves_behind, alive_behind, listing_behind, Treating, before}
use Rattle.ada_following.proofs.Frames as frames
use Rattle.ada_following.proofs.Readings.{none_acting}
use Rattle.ada_following.proofs.Stands.{KeptBehind, still_found, Path, at_path, on_path, off_path, Passed, passed, passes_path, passes_record, passes_assignment, Stands, codes, waits, leaving, taken, taken_gone, freed, freed_gone, undone_gone, resuming, beginning, adjusting, assigning, failing, finding, records_found, passing}
use Rattle.ada_following.proofs.Stands as stands
use Rattle.ada_following.proofs.Works.{declarations_work, frame_works}
use Rattle.ada_following.proofs.Deeds.{Work, work_is_quiet, Does, does_map, does_both, older_same, DoesOrEnds, or_ends}
use Rattle.ada_following.proofs.Goings.{Holds, stands_still, by_none, ended, raised_out}
use Rattle.ada_following.proofs.Follows.{Facts, Arrived, Follows}
use Rattle.ada_following.proofs.Coding.{reads_callers, facts_moded, read_follows, same_follows, enters_follows}
use Rattle.ada_following.proofs.Treated.{AllFollow, with_all}
use Rattle.ada_following.proofs.Beginning.{beginning_follows, made_follows, adjusting_follows, adjusted_follows}
use Rattle.ada_following.proofs.Ends.{taken_finishes, taken_ends, taken_goes_back, freed_finishes, freed_ends, freed_goes_back}
use Rattle.ada_following.proofs.Undoing.{undone_finishes, undone_ends, undone_goes_back, undo_follows}
use Rattle.ada_following.proofs.Assignments.{older_operands, copies_follow, assigning_follows, record_stores_follow}
use Rattle.ada_following.proofs.Failing.{failing_follows}
use Rattle.ada_following.proofs.Assigned.{assigned_follows}
use Rattle.ada_following.proofs.Finding.{finding_follows}
use Rattle.ada_following.proofs.Freeing.{work_follows}
use Rattle.ada_following.proofs.Leaving.{items_leave}

-- A jump that comes to code passes it, or lands there.
abbrev IsPlain : Landing Value → Type 0
IsPlain passes_on = Unit {0}
IsPlain goes_behind = Unit {0}
IsPlain (goes_in fs) = Unit {0}
IsPlain (breaks_off v by done) = ⊥
IsPlain escapes = ⊥

handler_plain : (found : Option StmtsForm) → IsPlain (handler_landing found)
handler_plain None = tt
handler_plain (Some fs) = tt

plain_landing : (mode : Mode) (f : Frame Value) → IsCode f → IsPlain (landing mode f)
plain_landing Running f is = tt
plain_landing (Raising e) (frame.Handles hs) is = handler_plain (handler_of e hs)
plain_landing (Raising e) (frame.Awaits v by done of part tasks) is = absurd is
plain_landing (Raising e) frame.Confines is = absurd is
plain_landing (Raising e) f is = tt
plain_landing Exiting (frame.Awaits v by done of part tasks) is = absurd is
plain_landing Exiting frame.Confines is = absurd is
plain_landing Exiting f is = tt
plain_landing Returning (frame.Awaits v by done of part tasks) is = absurd is
plain_landing Returning frame.Confines is = absurd is
plain_landing Returning f is = tt

-- An exit, or a return.
abbrev IsOther : Mode → Type 0
IsOther Running = ⊥
IsOther (Raising e) = ⊥
IsOther Exiting = Unit {0}
IsOther Returning = Unit {0}

-- An object with a part is there.
part_there : (h : Heap) (o : Id) (p : ℕ) (found : Option Object) → slice_get h o.0 ≡ found → is_some (part_of found p) ≡ true → (x : Object) × (slice_get h o.0 ≡ Some x)
part_there h o p None is e = absurd (cc e)
part_there h o p (Some x) is e = (x, is)

seen_part : (h : Heap) (o : Id) (p : ℕ) → (static h).holds o.0 p ≡ true → (x : Object) × (slice_get h o.0 ≡ Some x)
seen_part h o p has = part_there h o p (slice_get h o.0) refl has

never_lacks : {A : Type 0} {types : List TypeDefinition} {B : Alive} {o : ℕ} {qs : List ℕ} → frames.Lacks types B o [] qs → A
never_lacks lacks = let some = lacks.to_end in absurd (omega (arith, some))

-- Activations behind the end of a body.
as_they_were : (acts : List (Activation Value)) → with_operands (operands_of acts) (with_places (places_of acts) acts) ≡ acts
as_they_were [] = refl
as_they_were (a ∷ acts) = refl

older_returned : (vs ps : List Value) (acts : List (Activation Value)) → older (with_operands vs (with_places ps acts)) ≡ older acts
older_returned vs ps [] = refl
older_returned vs ps (a ∷ acts) = refl

module _ (types : List TypeDefinition) (bodies : List BodyForm) (x : State) (s : storage.State) (h : Heap) (holds : Holds s) where
  -- the running body goes on
  abbrev behind : List (Activation Value)
  behind = older x.activations

  abbrev Behind : List (Activation Value) → Control → List Master → storage.Control → Type 0
  Behind acts k ms c = Reads types (static h) false (listing h) s.alive acts k ms c

  -- What is known of storage, where it does nothing.
  stays_at : {e : Event} (y : State) (c : storage.Control) (md : storage.Mode) → event_seen e ≡ storage.quiet → s.control ≡ c → s.mode ≡ md → Facts types y.heap y.masters y.next s → Stands types y.heap s.alive y.activations y.masters y.mode y.control c md → Follows types s e y
  stays_at {e} y c md quiet is run f st = record {
    reached = s;
    to = s;
    goes = subst (λ ev. Goes ev s s) (sym quiet) (by_none s s refl);
    later = stands_still s s refl;
    arrived = record { control = c; moded = md; is_control = is; is_moded = run; stands = st; facts = f };
  }

  -- Code runs.
  module _ (m : Master) (ms : List Master) (M : storage.Master) (c : storage.Control) (is : s.control ≡ storage.acts M c) (f : Facts types h (m ∷ ms) x.next s) where
    works_follow : (b : Control) (coming : Next) → s.mode ≡ storage.running → Behind behind b (m ∷ ms) (storage.acts M c) → Does (λ e y. Work types b (m ∷ ms) x.next h Running e y × (shape y.activations ≡ shape x.activations)) coming → AllFollow types s coming
    works_follow b coming run r d =
        does_map (λ e y. Work types b (m ∷ ms) x.next h Running e y × (shape y.activations ≡ shape x.activations)) (Follows types s)
        (λ e y w. work_follows types s e y (work_is_quiet w.0) h m ms x.next M c is f behind (older_same x.activations y.activations w.1) run holds b r w.0) coming d

    code_follows : (g : Frame Value) (k : Control) → IsCode g → s.mode ≡ storage.running → Behind behind k (m ∷ ms) (storage.acts M c) → AllFollow types s (frame_next named types bodies g (with_all x h (m ∷ ms) Running k))
    code_follows (frame.Calls procedure b actuals) k plain run r =
        let y = frame_called in
        enters_follows types s Quiet y refl h m ms x.next M c is f (with_operands [] x.activations) refl run (frame.Returns actuals y_references ∷ k) (calls actuals y_references (reads_callers (older_operands [] x.activations) r))
        (frame.Elaborates b.declarations b.statements b.handlers) (frame.Returns actuals y_references ∷ k) refl refl refl refl refl refl same_one
      where
        y_references : List Value
        y_references = references_in actuals (newest_ones named (operand_count actuals) (with_all x h (m ∷ ms) Running k))

        frame_called : State
        frame_called = begun named procedure b actuals (newest_ones named (operand_count actuals) (with_all x h (m ∷ ms) Running k)) (with_all x h (m ∷ ms) Running k)
    code_follows (frame.Elaborates ds fs hs) k plain run r = absurd plain
    code_follows frame.Closes k plain run r = absurd plain
    code_follows (frame.Leaves mode) k plain run r = absurd plain
    code_follows (frame.Returns actuals references) k plain run r = absurd plain
    code_follows (frame.Treats v treatment tasks) k plain run r = absurd plain
    code_follows (frame.Awaits v by done of part tasks) k plain run r = absurd plain
    code_follows frame.Confines k plain run r = absurd plain
    code_follows (frame.Resumes mode) k plain run r = absurd plain
    code_follows (frame.Ends v) k plain run r = absurd plain
    code_follows (frame.GivesBack v cause pool) k plain run r = absurd plain
    code_follows (frame.Assigns t) k plain run r = absurd plain
    code_follows g k plain run r =
        let y = with_all x h (m ∷ ms) Running k in
        works_follow k (frame_next named types bodies g y) run r
        (does_both (shape x.activations) (Work types k (m ∷ ms) x.next h Running) (frame_next named types bodies g y) (frame_works types k bodies g y tt tt same_one) (frame_keeps types bodies g y tt refl refl))

    -- A declaration, or the statements behind the last one.
    elaborates_follow :
        (ds : List DeclarationForm) (fs : StmtsForm) (hs : HandlersForm) (k : Control) → s.mode ≡ storage.running → Behind behind (frame.Closes ∷ k) (m ∷ ms) (storage.acts M c)
        → AllFollow types s (frame_next named types bodies (frame.Elaborates ds fs hs) (with_all x h (m ∷ ms) Running k))
    elaborates_follow ds fs hs k run r =
        let y = with_all x h (m ∷ ms) Running k in
        works_follow (frame.Closes ∷ k) (frame_next named types bodies (frame.Elaborates ds fs hs) y) run r
        (does_both (shape x.activations) (Work types (frame.Closes ∷ k) (m ∷ ms) x.next h Running) (frame_next named types bodies (frame.Elaborates ds fs hs) y) (declarations_work types (frame.Closes ∷ k) ds fs hs y refl)
        (frame_keeps types bodies (frame.Elaborates ds fs hs) y tt refl refl))

    -- A jump: where it lands.
    landed_follows : (mode : Mode) (k : Control) (l : Landing Value) → IsPlain l → Behind behind k (m ∷ ms) (storage.acts M c) → AllFollow types s (landed named l mode (with_all x h (m ∷ ms) mode k))
    landed_follows mode k passes_on plain r = same_follows types s Quiet (with_all x h (m ∷ ms) mode k) refl h m ms x.next M c is f behind refl h (alike_same h) refl refl refl r
    landed_follows mode k goes_behind plain r = same_follows types s Quiet (with_all x h (m ∷ ms) Running k) refl h m ms x.next M c is f behind refl h (alike_same h) refl refl refl r
    landed_follows mode k (goes_in no_stmts) plain r = λ b. b
    landed_follows mode k (goes_in (a_stmt g fs)) plain r =
        same_follows types s Quiet (with_all x h (m ∷ ms) Running (frame.Does (a_stmt g fs) ∷ k)) refl h m ms x.next M c is f behind refl h (alike_same h) refl refl refl (code {f = frame.Does (a_stmt g fs)} tt r)
    landed_follows mode k (breaks_off v by done) plain r = absurd plain
    landed_follows mode k escapes plain r = absurd plain

    jump_follows : (mode : Mode) (g : Frame Value) (k : Control) → IsCode g → Behind behind k (m ∷ ms) (storage.acts M c) → AllFollow types s (pass_next named (is_master g) (landing mode g) mode (unwound named mode g (with_all x h (m ∷ ms) mode k)))
    jump_follows mode (frame.Elaborates ds fs hs) k plain r = absurd plain
    jump_follows mode frame.Closes k plain r = absurd plain
    jump_follows mode (frame.Returns actuals references) k plain r = absurd plain
    jump_follows mode g k plain r = landed_follows mode k (landing mode g) (plain_landing mode g plain) r

    -- The body of a call ends.
    storing_reads : (references : List Value) (acts : List (Activation Value)) (k : Control) → Behind acts k (m ∷ ms) (storage.acts M c) → Behind acts (storing named references k) (m ∷ ms) (storage.acts M c)
    storing_reads [] acts k r = r
    storing_reads (v ∷ vs) acts k r = code tt (storing_reads vs acts k r)

    ends_follows : (mode : Mode) (actuals : List ActualForm) (references : List Value) (k : Control) (y : State) → y ≡ record (returned named actuals references (with_all x h (m ∷ ms) mode k)) { mode = Running } → Behind (older behind) k (m ∷ ms) (storage.acts M c) → Follows types s Quiet y
    ends_follows mode actuals references k y e r =
        subst (λ (z : State). Follows types s Quiet z) (sym e)
        (same_follows types s Quiet (record (returned named actuals references (with_all x h (m ∷ ms) mode k)) { mode = Running }) refl h m ms x.next M c is f (older behind) (older_returned _ _ behind) h (alike_same h) refl refl refl
        (storing_reads references (older behind) k r))

    jump_ends : (mode : Mode) (actuals : List ActualForm) (references : List Value) (k : Control) → Behind (older behind) k (m ∷ ms) (storage.acts M c) → AllFollow types s (jump_next named mode (frame.Returns actuals references ∷ k) (with_all x h (m ∷ ms) mode (frame.Returns actuals references ∷ k)))
    jump_ends Running actuals references k r = same_follows types s Quiet (record (with_all x h (m ∷ ms) Running k) { activations = behind }) refl h m ms x.next M c is f (older behind) refl h (alike_same h) refl refl refl r
    jump_ends (Raising e) actuals references k r = same_follows types s Quiet (record (with_all x h (m ∷ ms) (Raising e) k) { activations = behind }) refl h m ms x.next M c is f (older behind) refl h (alike_same h) refl refl refl r
    jump_ends Exiting actuals references k r = same_follows types s Quiet (record (with_all x h (m ∷ ms) Exiting k) { activations = behind }) refl h m ms x.next M c is f (older behind) refl h (alike_same h) refl refl refl r
    jump_ends Returning actuals references k r = ends_follows Returning actuals references k _ refl r

  -- A master is left.
  leaves_by : (mode : Mode) (m : Master) (ms : List Master) (js : List storage.Item) (k : Control) (c : storage.Control) (t : storage.State) → Facts types h (m ∷ ms) x.next s → Items (listing h) m.items js → Behind behind k ms c → Goes storage.quiet s t
      → t ≡ record s { control = storage.leaves (record { number = suc m.number; items = js }) (mode_seen mode) c; mode = storage.running } → Follows types s Quiet (with_all x h (m ∷ ms) Running (frame.Leaves mode ∷ k))
  leaves_by mode m ms js k c t f items r goes is =
      let u = record s { control = storage.leaves (record { number = suc m.number; items = js }) (mode_seen mode) c; mode = storage.running } in
      record {
        reached = u;
        to = u;
        goes = subst (λ (v : storage.State). Goes storage.quiet s v) is goes;
        later = stands_still u u refl;
        arrived =
            record {
              control = u.control;
              moded = storage.running;
              is_control = refl;
              is_moded = refl;
              stands = leaving mode m items r;
              facts = facts_moded {s = s} u.control storage.running f;
            };
      }

  jump_leaves : (mode : Mode) (m : Master) (ms : List Master) (js : List storage.Item) (k : Control) (c : storage.Control) → s.control ≡ storage.acts (record { number = suc m.number; items = js }) c → s.mode ≡ mode_seen mode → Facts types h (m ∷ ms) x.next s → Items (listing h) m.items js → Behind behind k ms c
      → Follows types s Quiet (with_all x h (m ∷ ms) Running (frame.Leaves mode ∷ k))
  jump_leaves Running m ms js k c is run f items r =
      leaves_by Running m ms js k c _ f items r (ended s (record { number = suc m.number; items = js }) c is run) (λ i. record s { control = storage.leaves (record { number = suc m.number; items = js }) storage.running c; mode = run i })
  jump_leaves (Raising e) m ms js k c is run f items r = leaves_by (Raising e) m ms js k c _ f items r (raised_out s (record { number = suc m.number; items = js }) c is run) refl
  jump_leaves Exiting m ms js k c is run f items r =
      leaves_by Exiting m ms js k c _ f items r (ended s (record { number = suc m.number; items = js }) c is run) (λ i. record s { control = storage.leaves (record { number = suc m.number; items = js }) storage.running c; mode = run i })
  jump_leaves Returning m ms js k c is run f items r =
      leaves_by Returning m ms js k c _ f items r (ended s (record { number = suc m.number; items = js }) c is run) (λ i. record s { control = storage.leaves (record { number = suc m.number; items = js }) storage.running c; mode = run i })

  master_jumps : (mode : Mode) (g : Frame Value) (m : Master) (ms : List Master) (js : List storage.Item) (k : Control) (c : storage.Control) → is_master g ≡ true → s.control ≡ storage.acts (record { number = suc m.number; items = js }) c → s.mode ≡ mode_seen mode → Facts types h (m ∷ ms) x.next s → Items (listing h) m.items js → Behind behind k ms c
      → AllFollow types s (jump_next named mode (g ∷ k) (with_all x h (m ∷ ms) mode (g ∷ k)))
  master_jumps mode (frame.Elaborates ds fs hs) m ms js k c is_g is run f items r = jump_leaves mode m ms js k c is run f items r
  master_jumps mode frame.Closes m ms js k c is_g is run f items r = jump_leaves mode m ms js k c is run f items r
  master_jumps mode g m ms js k c is_g is run f items r = absurd (cc is_g)

  master_runs : (g : Frame Value) (m : Master) (ms : List Master) (js : List storage.Item) (k : Control) (c : storage.Control) → is_master g ≡ true → s.control ≡ storage.acts (record { number = suc m.number; items = js }) c → s.mode ≡ storage.running → Facts types h (m ∷ ms) x.next s → Items (listing h) m.items js → Behind behind k ms c
      → AllFollow types s (frame_next named types bodies g (with_all x h (m ∷ ms) Running k))
  master_runs (frame.Elaborates ds fs hs) m ms js k c is_g is run f items r = elaborates_follow m ms (record { number = suc m.number; items = js }) c is f ds fs hs k run (enters frame.Closes m refl items r)
  master_runs frame.Closes m ms js k c is_g is run f items r = jump_leaves Running m ms js k c is run f items r
  master_runs g m ms js k c is_g is run f items r = absurd (cc is_g)

  -- Code, or the end of an operation's body.
  codes_follow : (ms : List Master) (k : Control) (c : storage.Control) → s.control ≡ c → s.mode ≡ storage.running → Facts types h ms x.next s → Behind behind k ms c → DoesOrEnds k (Follows types s) (running_next named types bodies k (with_all x h ms Running k))
  codes_follow _ _ _ is run f nothing = λ end. refl
  codes_follow [] _ _ is run f (code plain rest) = absurd (none_acting rest)
  codes_follow (m ∷ ms) _ _ is run f (code {f = g} {k = k} {M = M} {c = c} plain rest) = or_ends (g ∷ k) (Follows types s) (frame_next named types bodies g (with_all x h (m ∷ ms) Running k)) (code_follows m ms M c is f g k plain run rest)
  codes_follow [] _ _ is run f (calls actuals references rest) = absurd (none_acting rest)
  codes_follow (m ∷ ms) _ _ is run f (calls actuals references {k = k} {M = M} {c = c} rest) = ends_follows m ms M c is f Running actuals references k _ refl rest
  codes_follow _ _ _ is run f (enters g {k = k} m {ms = ms} {js = js} {c = c} is_g items rest) = or_ends (g ∷ k) (Follows types s) (frame_next named types bodies g (with_all x h (m ∷ ms) Running k)) (master_runs g m ms js k c is_g is run f items rest)
  codes_follow ms _ c is run f (operates {k = k} rest) =
      stays_at (returned named [] [] (with_all x h ms Running k)) c storage.running refl is run f
      (waits (subst (λ (acts : List (Activation Value)). Reads types (static h) true (listing h) s.alive acts k ms c) (sym (as_they_were behind)) rest))

  jumps_follow : (ms : List Master) (mode : Mode) (k : Control) (c : storage.Control) → s.control ≡ c → s.mode ≡ mode_seen mode → Facts types h ms x.next s → Behind behind k ms c → DoesOrEnds k (Follows types s) (jump_next named mode k (with_all x h ms mode k))
  jumps_follow _ mode _ _ is run f nothing = λ end. refl
  jumps_follow [] mode _ _ is run f (code plain rest) = absurd (none_acting rest)
  jumps_follow (m ∷ ms) mode _ _ is run f (code {f = g} {k = k} {M = M} {c = c} plain rest) = or_ends (g ∷ k) (Follows types s) (jump_next named mode (g ∷ k) (with_all x h (m ∷ ms) mode (g ∷ k))) (jump_follows m ms M c is f mode g k plain rest)
  jumps_follow [] mode _ _ is run f (calls actuals references rest) = absurd (none_acting rest)
  jumps_follow (m ∷ ms) mode _ _ is run f (calls actuals references {k = k} {M = M} {c = c} rest) = or_ends (frame.Returns actuals references ∷ k) (Follows types s) (jump_next named mode (frame.Returns actuals references ∷ k) (with_all x h (m ∷ ms) mode (frame.Returns actuals references ∷ k))) (jump_ends m ms M c is f mode actuals references k rest)
  jumps_follow _ mode _ _ is run f (enters g {k = k} m {ms = ms} {js = js} {c = c} is_g items rest) = or_ends (g ∷ k) (Follows types s) (jump_next named mode (g ∷ k) (with_all x h (m ∷ ms) mode (g ∷ k))) (master_jumps mode g m ms js k c is_g is run f items rest)
  jumps_follow ms Running _ c is run f (operates {k = k} rest) = stays_at (record (with_all x h ms Running k) { activations = behind }) c storage.running refl is run f (waits rest)
  jumps_follow ms (Raising e) _ c is run f (operates {k = k} rest) = stays_at (record (with_all x h ms (Raising e) k) { activations = behind }) c storage.raising refl is run f (waits rest)
  jumps_follow ms Exiting _ c is run f (operates {k = k} rest) = stays_at (record (with_all x h ms Exiting k) { activations = behind }) c storage.running refl is run f (waits rest)
  jumps_follow ms Returning _ c is run f (operates {k = k} rest) =
      stays_at (record (returned named [] [] (with_all x h ms Returning k)) { mode = Running }) c storage.running refl is run f
      (waits (subst (λ (acts : List (Activation Value)). Reads types (static h) true (listing h) s.alive acts k ms c) (sym (as_they_were behind)) rest))

  -- A treatment waits behind the body of an operation that has ended.
  waits_follow :
      {t : Treating} (ms : List Master) (k l : Control) (c : storage.Control) → s.control ≡ before t c → s.mode ≡ storage.running → Facts types h ms x.next s → IsActing c → Waits types (static h) (listing h) s.alive x.activations ms k l t
      → Reads types (static h) false (listing_behind (listing h) t) (alive_behind s.alive t) behind k ms c → AllFollow types s (running_next named types bodies l (with_all x h ms Running l))
  waits_follow ms k _ c is run f acting (made o by done of part tasks jobs joins created has b is_joins joining) rest =
      let there = seen_part h o part has in
      made_follows types bodies x s h ms o there.0 by k joins c created there.1 is_joins joining acting rest f run holds (storage.called part ∷ jobs) done is of part tasks jobs refl b
  waits_follow ms k _ c is run f acting (adjusted o n done of part tasks F jobs has b) rest =
      adjusted_follows types bodies x s h ms o n k F c acting rest f run holds (storage.called part ∷ jobs) done is of part tasks jobs refl b
  waits_follow ms k _ c is run f acting (frames.freed o n pool tasks left dead {l = l} has none e same_l) rest = stays_at (with_all x h ms Running l) _ storage.running refl is run f (freed o n pool tasks left e acting rest same_l)
  waits_follow ms k _ c is run f acting (undone o n pool e done dead {l = l} has none same_l) rest = stays_at (with_all x h ms Running l) _ storage.running refl is run f (stands.undone o n pool e done acting rest same_l)
  waits_follow ms k _ c is run f acting (assigned_to o p us base t first count n last lasts tasks left dead {l = l} has some none newest rec e same_l) rest =
      stays_at (with_all x h ms Running l) _ storage.running refl is run f (assigning o p us base t first count n last lasts tasks left newest rec e acting rest same_l)
  waits_follow ms k _ c is run f acting (frames.failing o p us base t first count n last lasts tasks parts qs dead {l = l} has some none newest rec lacks same_l) rest =
      stays_at (with_all x h ms Running l) _ storage.running refl is run f (failing o p us base t first count n last lasts tasks parts qs _ newest rec lacks (inr refl) acting rest same_l)

  -- An exception comes out of it.
  broken_follows :
      (ms : List Master) (e : Exception) (o : Id) (by : Birth) (done : List PartOf) (jobs : List Job) (joins : storage.Joins) (k : Control) (c : storage.Control) → IsActing c → s.control ≡ storage.initializes o.0 joins jobs (numbers done) c → s.mode ≡ storage.raising → Facts types h ms x.next s
      → Reads types (static h) false (but o.0 (listing h)) s.alive behind k ms c → AllFollow types s (broken_next named e (Names o) by done (with_all x h ms (Raising e) k))
  broken_follows ms e o Creation done jobs joins k c acting is raised f rest = undo_follows types x s h o e done jobs joins k ms c acting rest is raised f (with_all x h ms (Raising e) k) refl refl refl refl refl (look h (Names o)) refl
  broken_follows ms e o Copy done jobs joins k c acting is raised f rest = λ b. b
  broken_follows ms e o (Adjustment n) done jobs joins k c acting is raised f rest = λ b. b

  raised_follow :
      {t : Treating} (ms : List Master) (e : Exception) (k l : Control) (c : storage.Control) → s.control ≡ before t c → s.mode ≡ storage.raising → Facts types h ms x.next s → IsActing c → Waits types (static h) (listing h) s.alive x.activations ms k l t
      → Reads types (static h) false (listing_behind (listing h) t) (alive_behind s.alive t) behind k ms c → AllFollow types s (jump_next named (Raising e) l (with_all x h ms (Raising e) l))
  raised_follow ms e k _ c is run f acting (made o by done of part tasks jobs joins created has b is_joins joining) rest = broken_follows ms e o by done (storage.called part ∷ jobs) joins k c acting is run f rest
  raised_follow ms e k _ c is run f acting (adjusted o n done of part tasks F jobs has b) rest = λ b. b
  raised_follow ms e k _ c is run f acting (frames.freed o n pool tasks left dead has none e2 same_l) rest = λ b. b
  raised_follow ms e k _ c is run f acting (undone o n pool e2 done dead has none same_l) rest = λ b. b
  raised_follow ms e k _ c is run f acting (assigned_to o p us base t first count n last lasts tasks left dead has some none newest rec e2 same_l) rest = λ b. b
  raised_follow ms e k _ c is run f acting (frames.failing o p us base t first count n last lasts tasks parts qs dead has some none newest rec lacks same_l) rest = λ b. b

  -- No other jump comes there.
  other_follow : {t : Treating} (ms : List Master) (mode : Mode) (k l : Control) → IsOther mode → Waits types (static h) (listing h) s.alive x.activations ms k l t → AllFollow types s (jump_next named mode l (with_all x h ms mode l))
  other_follow ms Running k _ other w = absurd other
  other_follow ms (Raising e) k _ other w = absurd other
  other_follow ms Exiting k _ other (made o by done of part tasks jobs joins created has b is_joins joining) = λ b. b
  other_follow ms Exiting k _ other (adjusted o n done of part tasks F jobs has b) = λ b. b
  other_follow ms Exiting k _ other (frames.freed o n pool tasks left dead has none e2 same_l) = λ b. b
  other_follow ms Exiting k _ other (undone o n pool e2 done dead has none same_l) = λ b. b
  other_follow ms Exiting k _ other (assigned_to o p us base t first count n last lasts tasks left dead has some none newest rec e2 same_l) = λ b. b
  other_follow ms Exiting k _ other (frames.failing o p us base t first count n last lasts tasks parts qs dead has some none newest rec lacks same_l) = λ b. b
  other_follow ms Returning k _ other (made o by done of part tasks jobs joins created has b is_joins joining) = λ b. b
  other_follow ms Returning k _ other (adjusted o n done of part tasks F jobs has b) = λ b. b
  other_follow ms Returning k _ other (frames.freed o n pool tasks left dead has none e2 same_l) = λ b. b
  other_follow ms Returning k _ other (undone o n pool e2 done dead has none same_l) = λ b. b
  other_follow ms Returning k _ other (assigned_to o p us base t first count n last lasts tasks left dead has some none newest rec e2 same_l) = λ b. b
  other_follow ms Returning k _ other (frames.failing o p us base t first count n last lasts tasks parts qs dead has some none newest rec lacks same_l) = λ b. b

  waiting_follows : (ms : List Master) (mode : Mode) (k : Control) (c : storage.Control) → s.control ≡ c → s.mode ≡ mode_seen mode → Facts types h ms x.next s → Reads types (static h) true (listing h) s.alive x.activations k ms c → AllFollow types s (mode_next named types bodies mode (with_all x h ms mode k))
  waiting_follows ms Running _ c is run f (treats_behind {k = k} {l = l} {c = d} t w acting rest e) = waits_follow ms k l d (is ∙ e) run f acting w rest
  waiting_follows ms (Raising ex) _ c is run f (treats_behind {k = k} {l = l} {c = d} t w acting rest e) = raised_follow ms ex k l d (is ∙ e) run f acting w rest
  waiting_follows ms Exiting _ c is run f (treats_behind {k = k} {l = l} {c = d} t w acting rest e) = other_follow ms Exiting k l tt w
  waiting_follows ms Returning _ c is run f (treats_behind {k = k} {l = l} {c = d} t w acting rest e) = other_follow ms Returning k l tt w
  waiting_follows _ Running _ _ is run f (leaves_behind {l = l} o i pool mode tasks left dead m {ms = ms} {js = js} {c = c} has none e items rest same_l) =
      stays_at (with_all x h (m ∷ ms) Running l) _ storage.running refl is run f (taken o i pool mode tasks left m e items rest same_l)
  waiting_follows _ (Raising ex) _ _ is run f (leaves_behind o i pool mode tasks left dead m has none e items rest same_l) = λ b. b
  waiting_follows _ Exiting _ _ is run f (leaves_behind o i pool mode tasks left dead m has none e items rest same_l) = λ b. b
  waiting_follows _ Returning _ _ is run f (leaves_behind o i pool mode tasks left dead m has none e items rest same_l) = λ b. b

  -- What comes first of an object that ends, or of a record that is assigned.
  taken_follow :
      (o : Id) (i : ℕ) (pool : Option ℕ) (mode : Mode) (tasks : List Task) (left : List Forest) (k : Control) (m : Master) (ms : List Master) (js : List storage.Item) (c : storage.Control) → Ends (shapes_of types) left tasks → Items (listing h) m.items js → Behind behind k ms c
      → s.control ≡ storage.finalizes (record { number = suc m.number; items = js }) i o.0 left (mode_seen mode) c → s.mode ≡ storage.running → Facts types h (m ∷ ms) x.next s
      → AllFollow types s (running_next named types bodies (treating (Names o) (ends (Leaving m.number i)) tasks (taking o m.number i pool mode k)) (with_all x h (m ∷ ms) Running (treating (Names o) (ends (Leaving m.number i)) tasks (taking o m.number i pool mode k))))
  taken_follow o i pool mode [] left k m ms js c e items r is run f = taken_ends types bodies x s h o i pool mode left k m ms js c items r is run f holds e
  taken_follow o i pool mode (task ∷ tasks) left k m ms js c e items r is run f = taken_finishes types bodies x s h o i pool mode left k m ms js c items r is run f holds task tasks e

  freed_follow :
      (o : Id) (n : ℕ) (pool : Option ℕ) (tasks : List Task) (left : List Forest) (k : Control) (ms : List Master) (c : storage.Control) → Ends (shapes_of types) left tasks → IsActing c → Behind behind k ms c
      → s.control ≡ storage.frees (suc n) o.0 left c → s.mode ≡ storage.running → Facts types h ms x.next s
      → AllFollow types s (running_next named types bodies (treating (Names o) (ends (Freeing n)) tasks (giving_up o n pool k)) (with_all x h ms Running (treating (Names o) (ends (Freeing n)) tasks (giving_up o n pool k))))
  freed_follow o n pool [] left k ms c e acting r is run f = freed_ends types bodies x s h o n pool left k ms c acting r is run f holds e
  freed_follow o n pool (task ∷ tasks) left k ms c e acting r is run f = freed_finishes types bodies x s h o n pool left k ms c acting r is run f holds task tasks e

  undone_follow :
      (o : Id) (n : ℕ) (pool : Option ℕ) (e : Exception) (done : List PartOf) (k : Control) (ms : List Master) (c : storage.Control) → IsActing c → Behind behind k ms c
      → s.control ≡ storage.undoes (suc n) o.0 (numbers done) c → s.mode ≡ storage.running → Facts types h ms x.next s
      → AllFollow types s (running_next named types bodies (treating (Names o) (ends (Undoing n)) (performing done) (undoing o n pool e k)) (with_all x h ms Running (treating (Names o) (ends (Undoing n)) (performing done) (undoing o n pool e k))))
  undone_follow o n pool e [] k ms c acting r is run f = undone_ends types bodies x s h o n pool e k ms c acting r run f holds is
  undone_follow o n pool e (p ∷ done) k ms c acting r is run f = undone_finishes types bodies x s h o n pool e k ms c acting r run f holds p done is

  assigning_follow :
      (o p : Id) (us : List Value) (base t first count n : ℕ) (last : Task) (lasts tasks : List Task) (left : List Forest) (k : Control) (ms : List Master) (c : storage.Control) → operands_of x.activations ≡ Names p ∷ us → frames.IsRecord (last ∷ lasts) → Ends (shapes_of types) left tasks → IsActing c
      → Reads types (static h) false (listing h) (alive_behind s.alive (frames.assigns (suc n) o.0 (forest_adjusted (shapes_of types) (last ∷ lasts)) left)) behind k ms c
      → s.control ≡ storage.assigns (suc n) o.0 (forest_adjusted (shapes_of types) (last ∷ lasts)) left c → s.mode ≡ storage.running → Facts types h ms x.next s
      → AllFollow types s (running_next named types bodies (treating (Names o) (ends (Assigning n)) tasks (copying o base t first count n last lasts k)) (with_all x h ms Running (treating (Names o) (ends (Assigning n)) tasks (copying o base t first count n last lasts k))))
  assigning_follow o p us base t first count n last lasts [] left k ms c newest rec e acting r is run f =
      copies_follow types bodies x s h ms o n last lasts left k c acting rec r is run f p us base t first count newest e
  assigning_follow o p us base t first count n last lasts (task ∷ tasks) left k ms c newest rec e acting r is run f =
      assigning_follows types bodies x s h ms o n last lasts left k c acting rec r is run f p us base t first count newest holds task tasks e

  failing_follow :
      (o p : Id) (us : List Value) (base t first count n : ℕ) (last : Task) (lasts tasks : List Task) (parts qs : List ℕ) (left : List Forest) (k : Control) (ms : List Master) (c : storage.Control) → operands_of x.activations ≡ Names p ∷ us → frames.IsRecord (last ∷ lasts)
      → frames.Lacks types s.alive o.0 tasks qs → stands.AreBeside qs left → IsActing c
      → Reads types (static h) false (listing h) (alive_behind s.alive (frames.assigns (suc n) o.0 (beside parts) left)) behind k ms c
      → s.control ≡ storage.assigns (suc n) o.0 (beside parts) left c → s.mode ≡ storage.running → Facts types h ms x.next s
      → AllFollow types s (running_next named types bodies (treating (Names o) (ends (Assigning n)) tasks (copying o base t first count n last lasts k)) (with_all x h ms Running (treating (Names o) (ends (Assigning n)) tasks (copying o base t first count n last lasts k))))
  failing_follow o p us base t first count n last lasts [] parts qs left k ms c newest rec lacks are acting r is run f = never_lacks lacks
  failing_follow o p us base t first count n last lasts (task ∷ tasks) parts qs left k ms c newest rec lacks are acting r is run f =
      failing_follows types bodies x s h ms o p us base t first count n last lasts parts qs left k c acting newest rec are r is run f holds task tasks lacks

  -- A record is found for an assignment; an exception passes that.
  found_follows :
      (ms : List Master) (has : Bool) (source : RecordPathForm) (t : ℕ) (k l : Control) (M : storage.Master) (c : storage.Control) → Path (operands_of x.activations) h has (still_found has source t k) l → Behind behind k ms (storage.acts M c) → s.control ≡ storage.acts M c → Facts types h ms x.next s
      → DoesOrEnds l (Follows types s) (running_next named types bodies l (with_all x h ms Running l))
  found_follows ms has source t k [] M c path r is f = λ end. refl
  found_follows ms has source t k (g ∷ l) M c path r is f =
      or_ends (g ∷ l) (Follows types s) (frame_next named types bodies g (with_all x h ms Running l)) (finding_follows types bodies x s h ms has source t k M c r is f g l path)

  passed_on :
      (ms : List Master) (e : Exception) (k l : Control) (M : storage.Master) (c : storage.Control) → Passed k l → Behind behind k ms (storage.acts M c) → s.control ≡ storage.acts M c → Facts types h ms x.next s
      → Follows types s Quiet (with_all x h ms (Raising e) l)
  passed_on ms e k l M c over r is f = read_follows types s Quiet (with_all x h ms (Raising e) l) refl h ms x.next M c is f (Raising e) storage.raising l (passing e over r) refl refl refl refl refl

  passed_follow :
      (ms : List Master) (e : Exception) (k l : Control) (M : storage.Master) (c : storage.Control) → Passed k l → Behind behind k ms (storage.acts M c) → s.control ≡ storage.acts M c → s.mode ≡ storage.raising → Facts types h ms x.next s
      → DoesOrEnds l (Follows types s) (jump_next named (Raising e) l (with_all x h ms (Raising e) l))
  passed_follow ms e k _ M c passed r is run f = jumps_follow ms (Raising e) k (storage.acts M c) is run f r
  passed_follow ms e k _ M c (passes_path p {l} over) r is run f = passed_on ms e k l M c over r is f
  passed_follow ms e k _ M c (passes_record place t {l} over) r is run f = passed_on ms e k l M c over r is f
  passed_follow ms e k _ M c (passes_assignment t {l} over) r is run f = passed_on ms e k l M c over r is f

  stands_follow :
      {ms : List Master} {mode : Mode} {k : Control} {c : storage.Control} {md : storage.Mode} → s.control ≡ c → s.mode ≡ md → Facts types h ms x.next s → Stands types h s.alive x.activations ms mode k c md
      → DoesOrEnds k (Follows types s) (mode_next named types bodies mode (with_all x h ms mode k))
  stands_follow {ms = ms} {mode = Running} {k = k} {c = c} is run f (codes r) = codes_follow ms k c is run f r
  stands_follow {ms = ms} {mode = Raising e} {k = k} {c = c} is run f (codes r) = jumps_follow ms (Raising e) k c is run f r
  stands_follow {ms = ms} {mode = Exiting} {k = k} {c = c} is run f (codes r) = jumps_follow ms Exiting k c is run f r
  stands_follow {ms = ms} {mode = Returning} {k = k} {c = c} is run f (codes r) = jumps_follow ms Returning k c is run f r
  stands_follow {ms = ms} {mode = mode} {k = k} {c = c} is run f (waits r) = or_ends k (Follows types s) (mode_next named types bodies mode (with_all x h ms mode k)) (waiting_follows ms mode k c is run f r)
  stands_follow is run f (leaving mode {k = k} m {ms = ms} {js = js} {c = c} items r) = or_ends _ (Follows types s) _ (items_leave types x s h m.number ms mode k c r run holds m.items js items f is)
  stands_follow is run f (taken o i pool mode tasks left {k = k} {l = l} m {ms = ms} {js = js} {c = c} e items r same_l) =
      or_ends l (Follows types s) (running_next named types bodies l (with_all x h (m ∷ ms) Running l))
      (subst (λ (q : Control). AllFollow types s (running_next named types bodies q (with_all x h (m ∷ ms) Running q))) (sym same_l) (taken_follow o i pool mode tasks left k m ms js c e items r is run f))
  stands_follow is run f (taken_gone o object i pool mode {k = k} m {ms = ms} {js = js} {c = c} there gone items r) =
      or_ends _ (Follows types s) _ (taken_goes_back types bodies x s h o i pool mode [] k m ms js c items r is run f holds object there gone refl (lent h (Names o)))
  stands_follow is run f (freed o n pool tasks left {k = k} {l = l} {ms = ms} {c = c} e acting r same_l) =
      or_ends l (Follows types s) (running_next named types bodies l (with_all x h ms Running l))
      (subst (λ (q : Control). AllFollow types s (running_next named types bodies q (with_all x h ms Running q))) (sym same_l) (freed_follow o n pool tasks left k ms c e acting r is run f))
  stands_follow is run f (freed_gone o object n pool {k = k} {ms = ms} {c = c} there gone acting r) =
      or_ends _ (Follows types s) _ (freed_goes_back types bodies x s h o n pool [] k ms c acting r is run f holds object there gone refl (lent h (Names o)))
  stands_follow is run f (stands.undone o n pool e done {k = k} {l = l} {ms = ms} {c = c} acting r same_l) =
      or_ends l (Follows types s) (running_next named types bodies l (with_all x h ms Running l))
      (subst (λ (q : Control). AllFollow types s (running_next named types bodies q (with_all x h ms Running q))) (sym same_l) (undone_follow o n pool e done k ms c acting r is run f))
  stands_follow is run f (undone_gone o object n pool e {k = k} {ms = ms} {c = c} there gone acting r) =
      or_ends _ (Follows types s) _ (undone_goes_back types bodies x s h o n pool e k ms c acting r run f holds is object there gone (lent h (Names o)))
  stands_follow is run f (resuming e {k = k} {ms = ms} {c = c} r) = stays_at (with_all x h ms (Raising e) k) c storage.raising refl is run f (codes r)
  stands_follow is run f (beginning o object by done task tasks jobs joins {k = k} {ms = ms} {c = c} created there b is_joins joining acting r) =
      or_ends _ (Follows types s) _ (beginning_follows types bodies x s h ms o object by k joins c created there is_joins joining acting r f run holds jobs done is task tasks b)
  stands_follow is run f (adjusting o n done task tasks F jobs {k = k} {ms = ms} {c = c} b acting r) =
      or_ends _ (Follows types s) _ (adjusting_follows types bodies x s h ms o n k F c acting r f run holds jobs done is task tasks b)
  stands_follow is run f (assigning o p us base t first count n last lasts tasks left {k = k} {l = l} {ms = ms} {c = c} newest rec e acting r same_l) =
      or_ends l (Follows types s) (running_next named types bodies l (with_all x h ms Running l))
      (subst (λ (q : Control). AllFollow types s (running_next named types bodies q (with_all x h ms Running q))) (sym same_l) (assigning_follow o p us base t first count n last lasts tasks left k ms c newest rec e acting r is run f))
  stands_follow is run f (stands.storing o first count n last lasts left {k = k} {ms = ms} {c = c} rec e acting r) =
      or_ends _ (Follows types s) _ (record_stores_follow types bodies x s h ms o n last lasts left k c acting rec r is run f first count e)
  stands_follow is run f (failing o p us base t first count n last lasts tasks parts qs left {k = k} {l = l} {ms = ms} {c = c} newest rec lacks are acting r same_l) =
      or_ends l (Follows types s) (running_next named types bodies l (with_all x h ms Running l))
      (subst (λ (q : Control). AllFollow types s (running_next named types bodies q (with_all x h ms Running q))) (sym same_l) (failing_follow o p us base t first count n last lasts tasks parts qs left k ms c newest rec lacks are acting r is run f))
  stands_follow is run f (finding has source t {k = k} {l = l} {ms = ms} {M = M} {c = c} path r) = found_follows ms has source t k l M c path r is f
  stands_follow is run f (records_found t {k = k} {ms = ms} {M = M} {c = c} kept r) = or_ends _ (Follows types s) _ (assigned_follows types x s h ms t k M c r is run f kept)
  stands_follow is run f (passing e {k = k} {l = l} {ms = ms} {M = M} {c = c} over r) = passed_follow ms e k l M c over r is run f

-- What is known of a state of a program and one of storage, together.
pub record Joint (types : List TypeDefinition) (x : State) (s : storage.State) : Type 0 where
  pub arrived : Arrived types x.activations x.heap x.masters x.next x.mode x.control s
  pub holds : Holds s

pub joint_follows : (types : List TypeDefinition) (bodies : List BodyForm) (x : State) (s : storage.State) → Joint types x s → DoesOrEnds x.control (Follows types s) (next types bodies x)
unfolding next
joint_follows types bodies x s j = stands_follow types bodies x s x.heap j.holds j.arrived.is_control j.arrived.is_moded j.arrived.facts j.arrived.stands
