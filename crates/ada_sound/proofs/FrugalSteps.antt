-- Any step of a frugal body (7.6, 7.6.1, 13.11.2) in front of its end leads on in it, or in one that it calls (6.4), or to the end of an object that it frees,
-- or whose master it leaves, or to the beginning of one that it allocates or declares (4.8, 3.3.1).

use Rattle.ada_finalized.specs.Law.{NoOperationRunsOn}
use Rattle.std.proofs.Common.{◌≡◌, ℕ, suc, Bool, true, false, ◌&&◌, if◌then◌else◌, List, [], ◌∷◌, ◌++◌, length, refl, subst, ◌⊎◌, inl, inr, sym, ap, ◌∙◌}
use Rattle.std.specs.Prelude.{Option, Some, None, drop, not, ◌||◌, ◌==◌}
use Rattle.ada_owners.proofs.Objects.{next_id}
use Rattle.std.specs.List.{slice_get, slice_index_or}
use Rattle.std.proofs.lemmas.Bool.{and_parts, or_cases}
use Rattle.ada_program.specs.WellFormed.{object_named}
use Rattle.ada_program.specs.declared.program.Exception.{Exception}
use Rattle.ada_program.specs.declared.program.TypeDefinition.{TypeDefinition}
use Rattle.ada_program.specs.Form.{ActualForm, StmtsForm, no_stmts, a_stmt, HandlersForm, no_handlers, a_handler}
use Rattle.ada_program.specs.Handling.{handler_of, some_takes}
use Rattle.ada_program.specs.ProgramForm.{BodyForm, ProgramForm, program_form, body_forms, seen_in}
use Rattle.ada_parts.specs.declared.tasks.Next.{Next as NextTask}
use Rattle.ada_parts.specs.declared.tasks.Next.TheVariants.{Done, Pick, Perform}
use Rattle.ada_parts.specs.Task.{Task, performed, next as task_next}
use Rattle.ada_parts.specs.declared.tasks.Direction.{Direction}
use Rattle.ada_parts.specs.declared.tasks.Direction.TheVariants.{PartsFirst}
use Rattle.ada_parts.specs.Part.{Part}
use Rattle.ada_program.specs.Controlled.{shapes_of, operations_of, procedure_number}
use Rattle.ada_program.specs.Freed.{FreesItsOwn}
use Rattle.ada_program.specs.Typed.{words_of, width_of}
use Rattle.ada_program.specs.declared.program.Program.{Program}
use Rattle.ada_meaning.specs.declared.event.Cause.{Cause}
use Rattle.ada_meaning.specs.declared.event.Halt.TheVariants.{Erroneous, Stuck}
use Rattle.ada_meaning.specs.declared.event.Why.TheVariants.{FinalizesTwice}
use Rattle.ada_meaning.specs.declared.event.Birth.{Birth}
use Rattle.ada_meaning.specs.declared.event.Birth.TheVariants.{Creation, Copy, Adjustment}
use Rattle.ada_meaning.specs.declared.state.Value.{Value}
use Rattle.ada_meaning.specs.declared.state.Value.TheVariants.{Null}
use Rattle.ada_meaning.specs.declared.state.Mode.{Mode}
use Rattle.ada_meaning.specs.declared.state.Mode.TheVariants.{Running, Raising, Exiting, Returning}
use Rattle.ada_meaning.specs.Event.{Event, Finalized, Quiet}
use Rattle.ada_meaning.specs.Frame.{Resumes, Assigns, Frame, Treatment, begins, ends, is_return, Elaborates, Does, Decides, Repeats, Turns, Ranges, Counts, Exits, Handles, Closes, Leaves, Calls, Returns, Evaluates, Computes, Follows, TestsNull, Refers, RefersIn, Opens, OpensIn, Continues, Applies, AppliesAlone, Fills, Copies, Creates, Stores, Targets, StoresIn, TargetsRecord, StoresRecord, Receives, FreesIn, Declares, DeclaresRecord, Treats, Awaits, Confines, Writes, Ends, GivesBack, Clears, ClearsIn, handler_landing}
use Rattle.ada_meaning.specs.Heap.{PartState, Cell, Found, on_null, on_gone, on_other, finds}
use Rattle.ada_meaning.specs.State.{Activation, Master, home_of}
use Rattle.ada_meaning.specs.Step.{all_tasks, halts, picks, treating, direction_of, picked_task, treated_on, operation_next, ended_next, finalized_next, performed_next, treats_next, first_or, places_of, operands_of, operand_count, newest_ones, with_operands, frame_next, landed, jump_next, mode_next, born_next, begun_next, beginning, older}
use Rattle.ada_meaning.specs.Named.{Object, State, Next, named, next, look, lent, finalize}
use Rattle.ada_quiet.proofs.FrugalAt.{frugal_at}
use Rattle.ada_quiet.specs.Idle.{holds_parts}
use Rattle.ada_typed.proofs.Bodies.{own_bodies}
use Rattle.ada_typed.proofs.Control as typed
use Rattle.ada_typed.proofs.Control.{OwnBody}
use Rattle.ada_typed.proofs.Kept.{Each, crosses as crosses_by, is_treatment}
use Rattle.ada_sound.proofs.Allowance.{Allowance, allowance_of, copies_object, fills_parts, is_unadjusted_named, are_thrifty, are_thrifty_handlers, is_thrifty_body, body_thrifty}
use Rattle.ada_sound.specs.Agreement.{running_procedure}
use Rattle.ada_sound.proofs.Calm.{ends_operation}
use Rattle.ada_sound.proofs.Invariant.{Control}
use Rattle.ada_sound.proofs.OperationStarts.{apart}
use Rattle.ada_sound.proofs.FrugalControl.{AreKnown, EndsThere, LeavesThere, IsAdjusted, RecordIsInside, adjusting_frugal, finalizing_frugal, FrugalLeads, FrugalLeaves, MayLeave, Frugal, is_return_first, none_treated, none_left, treating_leads, treating_leaves, Frugally, GoesFrugally, BeginsThere, FrugalBegins, beginning_frugal, begins_first, leads_first, none_beginning, IsReplacing, IsAssigned, copies_first}
use Rattle.ada_sound.proofs.InsideRecords.{object_inside, performed_inside, record_inside}
use Rattle.ada_sound.proofs.Standing.{FreesAmong}
use Rattle.ada_sound.proofs.Steps.{crosses}
use Rattle.ada_sound.proofs.FreedInside.{IsFreedNext}
use Rattle.ada_sound.proofs.FrugalFrees.{past_unborn, ObjectIsBare, bare_by, RecordIsBare, records_bare_by, NextFreesOwn, next_own, ListedAlone, FrameIsFreely, NextIsFreely, next_freely, LeftAlone, Unborn, is_newly, AssignsBeside}
use Rattle.ada_sound.proofs.FrugalFrames as frames
use Rattle.ada_sound.proofs.FrugalFrames.{EndsCreated, may_leave}

-- The statements of the handler that takes an exception.
handler_frugal : (allowance : Allowance) (hs : HandlersForm) (e : Exception) (fs : StmtsForm) → handler_of e hs ≡ Some fs → are_thrifty_handlers allowance hs ≡ true → are_thrifty allowance fs ≡ true
handler_frugal allowance no_handlers e fs is thrifty = absurd (cc is)
handler_frugal allowance (a_handler choices gs hs) e fs is thrifty = by (some_takes e choices) is (λ later more. handler_frugal allowance hs e fs later more)
  where
    both : (are_thrifty allowance gs ≡ true) × (are_thrifty_handlers allowance hs ≡ true)
    both = apart (are_thrifty allowance gs) (are_thrifty_handlers allowance hs) thrifty

    by : (b : Bool) → (if b then Some gs else handler_of e hs) ≡ Some fs → (handler_of e hs ≡ Some fs → are_thrifty_handlers allowance hs ≡ true → are_thrifty allowance fs ≡ true) → are_thrifty allowance fs ≡ true
    by true is' more = let same : gs ≡ fs = cc is' in rw (← same) both.0
    by false is' more = more is' both.1

-- The body that a statement calls is frugal, where its procedure is.
abbrev pub FindsFrugal : Allowance → List BodyForm → Type 0
FindsFrugal allowance bodies = (number : ℕ) (b : BodyForm) → slice_get bodies number ≡ Some b → slice_index_or allowance.procedures number false ≡ true → is_thrifty_body allowance b ≡ true

-- No object is treated next (7.6.1).
abbrev pub TreatsNothing : Control → Type 0
TreatsNothing k = (v : Value) (treatment : Treatment) (tasks : List Task) (j : Control) → k ≡ Treats v treatment tasks ∷ j → ⊥

module _ (frugal : Allowance) (lower : List Master) (behind : Control) (among : List Value) (tds : List TypeDefinition) (bodies : List BodyForm) (objects_bare : ObjectIsBare frugal.types tds) (records_bare : RecordIsBare frugal.types tds) (records_inside : RecordIsInside frugal tds) (finds_frugal : FindsFrugal frugal bodies) (ends_created : EndsCreated frugal) (s : State) where
  abbrev Fine : Next → Type 0
  Fine n = GoesFrugally frugal lower behind among n

  abbrev now : List (Activation Value) → Control → List Master → State
  now all k ms = frames.now frugal lower behind among tds bodies s all k ms

  -- Where the end of a body is next, it is one that was called: what called it goes on.
  abbrev IsInner : Frame Value → Control → List Master → Type 0
  IsInner (Returns actuals references) k ms = FrugalLeads frugal behind among k ms
  IsInner f k ms = Unit {0}

  -- Without the newest operand, or the two newest ones.
  abbrev without : List (Activation Value) → List (Activation Value)
  without all = frames.without frugal lower behind among tds bodies s all

  abbrev twice_without : List (Activation Value) → List (Activation Value)
  twice_without all = without (without all)

  -- Nothing is to be done for a record object with an initial value, or no Adjust tracks, or none is called for it.
  copied_tasks : (t : ℕ) (o : Option ℕ) → object_named frugal.types (Some t) ≡ o → is_unadjusted_named frugal o ≡ true
      → AreKnown frugal.types frugal.unadjusted (all_tasks tds t PartsFirst)
  copied_tasks t None named is = absurd (cc is)
  copied_tasks t (Some r) named is = (r, is, records_inside.1 t r PartsFirst named)

  copied_so : (t : ℕ) → frugal.treats_parts ≡ true → copies_object frugal t ≡ true → frames.IsFilled frugal (all_tasks tds t PartsFirst)
  copied_so t treats_parts is =
      let named = is_unadjusted_named frugal (object_named frugal.types (Some t)) in
      elim (or_cases frugal.untracked named is) [
        | inl untracked ↦ inr (inl untracked)
        | inr copied ↦ inr (inr (treats_parts, copied_tasks t (object_named frugal.types (Some t)) refl copied))
      ]

  fills : (t : ℕ) → fills_parts frugal t ≡ true → frames.IsFilled frugal (all_tasks tds t PartsFirst)
  fills t is =
      elim (or_cases (not (holds_parts frugal.types t)) (frugal.treats_parts && copies_object frugal t) is) [
        | inl bare ↦ inl (objects_bare t PartsFirst bare)
        | inr copied ↦ let both = and_parts frugal.treats_parts (copies_object frugal t) copied in copied_so t both.0 both.1
      ]

  popped_are : (all : List (Activation Value)) → operands_of (without all) ≡ older (operands_of all)
  popped_are [] = refl
  popped_are (a ∷ all) = refl

  -- What is left of the body goes on.
  frame_on : (f : Frame Value) (k : Control) (ms : List Master) → (all : List (Activation Value)) → IsInner f k ms → is_treatment f ≡ false → FrameIsFreely frugal tds f k s.heap (places_of all) (operands_of all) → (frugal.objects ≡ true → Unborn s.heap (f ∷ k)) → FrugalLeads frugal behind among (f ∷ k) ms → Fine (frame_next named tds bodies f (now all k ms))
  frame_on (Elaborates ds fs hs) k ms all inner plain freely unborn q = frames.declarations_on frugal lower behind among tds bodies s ms ds fs hs all k unborn q
  frame_on (Does no_stmts) k ms all inner plain freely unborn (thrifty, q) = frames.on frugal lower behind among tds bodies s ms _ refl q
  frame_on (Does (a_stmt f fs)) k ms all inner plain freely unborn (thrifty, q) =
      let both = apart _ _ thrifty in
      frames.stmt_on frugal lower behind among tds bodies s ms f finds_frugal records_bare all (Does fs ∷ k) both.0 freely (both.1, q)
  frame_on (Decides fs branches) k ms all inner plain freely unborn (thrifty, q) =
      frames.decided_on frugal lower behind among tds bodies s ms fs branches (named.reads_boolean (first_or Null (operands_of all))) (without all) k thrifty q
  frame_on (Repeats condition fs) k ms all inner plain freely unborn (thrifty, q) = frames.repeats_on frugal lower behind among tds bodies s ms condition fs all k thrifty q
  frame_on (Turns e fs) k ms all inner plain freely unborn (thrifty, q) =
      frames.turned_on frugal lower behind among tds bodies s ms e fs (named.reads_boolean (first_or Null (operands_of all))) (without all) k thrifty q
  frame_on (Ranges x fs) k ms all inner plain freely unborn (thrifty, q) =
      frames.ranges_on frugal lower behind among tds bodies s ms x fs (named.reads_integer (first_or Null (operands_of (without all)))) (named.reads_integer (first_or Null (operands_of all)))
      (twice_without all) k thrifty q
  frame_on (Counts x value last fs) k ms all inner plain freely unborn (thrifty, q) = frames.counts_on frugal lower behind among tds bodies s ms x value last fs all k thrifty q
  frame_on Exits k ms all inner plain freely unborn (thrifty, q) =
      frames.exited_on frugal lower behind among tds bodies s ms (named.reads_boolean (first_or Null (operands_of all))) (without all) k q
  frame_on (Handles hs) k ms all inner plain freely unborn (thrifty, q) = frames.on frugal lower behind among tds bodies s ms _ refl q
  frame_on Closes k [] all inner plain freely unborn q = absurd q
  frame_on Closes k (m ∷ ms) all inner plain freely unborn q = frames.leaves_first frugal lower behind among tds bodies s (m ∷ ms) Running k _ refl refl refl q
  frame_on (Calls number b actuals) k ms all inner plain freely unborn (thrifty, q) =
      frames.begun_on frugal lower behind among tds bodies s ms number b actuals (newest_ones named (operand_count actuals) (now all k ms)) thrifty all k q
  frame_on (Returns actuals references) k ms all inner plain freely unborn q = frames.returned_on frugal lower behind among tds bodies s ms actuals references all k inner
  frame_on (Refers path) k ms all inner plain freely unborn (thrifty, q) = frames.record_on frugal lower behind among tds bodies s ms path all k q
  frame_on (RefersIn place t) k ms all inner plain freely unborn (thrifty, q) =
      frames.refers_on frugal lower behind among tds bodies s ms (first_or Null (operands_of all)) place (width_of tds t) (look s.heap (first_or Null (operands_of all))) (without all) k q
  frame_on (Opens path) k ms all inner plain freely unborn (thrifty, q) = frames.open_on frugal lower behind among tds bodies s ms path.selectors path.root all k q
  frame_on (OpensIn c) k ms all inner plain freely unborn (thrifty, q) =
      frames.opens_on frugal lower behind among tds bodies s ms (first_or Null (operands_of all)) c (look s.heap (first_or Null (operands_of all))) (without all) k q
  frame_on (Evaluates right) k ms all inner plain freely unborn (thrifty, q) = frames.right_on frugal lower behind among tds bodies s ms right thrifty all k q
  frame_on (Computes e) k ms all inner plain freely unborn (thrifty, q) = frames.expression_on frugal lower behind among tds bodies s ms e all k q
  frame_on (Follows cs) k ms all inner plain freely unborn (thrifty, q) =
      frames.path_on frugal lower behind among tds bodies s ms cs (first_or Null (operands_of all)) (without all) k q
  frame_on (TestsNull equal) k ms all inner plain freely unborn (thrifty, q) =
      frames.null_test_on frugal lower behind among tds bodies s ms equal (named.reads_null (first_or Null (operands_of all))) (without all) k q
  frame_on (Continues links) k ms all inner plain freely unborn (thrifty, q) = frames.links_on frugal lower behind among tds bodies s ms links all k q
  frame_on (Applies operator) k ms all inner plain freely unborn (thrifty, q) =
      frames.outcome_on frugal lower behind among tds bodies s ms (named.binary operator (first_or Null (operands_of (without all))) (first_or Null (operands_of all))) (twice_without all) k q
  frame_on (AppliesAlone operator) k ms all inner plain freely unborn (thrifty, q) =
      frames.outcome_on frugal lower behind among tds bodies s ms (named.unary operator (first_or Null (operands_of all))) (without all) k q
  frame_on (Fills items) k ms all inner plain freely unborn (thrifty, q) = frames.items_on frugal lower behind among tds bodies s ms items all k q
  frame_on (Copies first t) k ms all inner plain freely unborn (thrifty, q) =
      frames.copies_on frugal lower behind among tds bodies s ms (first_or Null (operands_of all)) first (width_of tds t) (look s.heap (first_or Null (operands_of all))) (without all) k q
  frame_on (Creates access count) k ms all inner plain freely unborn (thrifty, q) =
      frames.new_on frugal lower behind among tds bodies s ms access count (words_of tds access) (home_of access (ms ++ lower)) all k
      (is_newly frugal tds objects_bare access s.heap k unborn thrifty) q
  frame_on (Stores x) k ms all inner plain freely unborn (thrifty, q) =
      frames.puts_on frugal lower behind among tds bodies s ms x (first_or Null (operands_of all)) (without all) k q
  frame_on (Targets c right) k ms all inner plain freely unborn (thrifty, q) =
      frames.target_on frugal lower behind among tds bodies s ms (first_or Null (operands_of all)) c right (look s.heap (first_or Null (operands_of all))) thrifty (without all) k q
  frame_on (StoresIn o c) k ms all inner plain freely unborn (thrifty, q) =
      frames.store_on frugal lower behind among tds bodies s ms o c (first_or Null (operands_of all)) (look s.heap o) (without all) k q
  frame_on (TargetsRecord first t items) k ms all inner plain freely unborn (thrifty, q) =
      frames.record_target_on frugal lower behind among tds bodies s ms (first_or Null (operands_of all)) first (width_of tds t) items (look s.heap (first_or Null (operands_of all))) (without all) k q
  frame_on (StoresRecord o first count) k ms all inner plain freely unborn (thrifty, q) =
      frames.store_record_on frugal lower behind among tds bodies s ms o first count (look s.heap o) all k q
  frame_on (Assigns t) k ms all inner plain freely unborn (may, q) =
      let target = first_or Null (operands_of (without all)) in
      let source = first_or Null (operands_of all) in
      frames.assigned_on frugal lower behind among tds bodies s ms t target source (named.same target source) refl records_inside (twice_without all) k may
      (λ calls o place is. freely calls o place (sym (ap (first_or Null) (popped_are all)) ∙ is)) q
  frame_on (Receives c) k ms all inner plain freely unborn (thrifty, q) =
      frames.receive_on frugal lower behind among tds bodies s ms (first_or Null (operands_of all)) c (look s.heap (first_or Null (operands_of all))) (without all) k q
  frame_on (FreesIn access c) k ms all inner plain freely unborn (thrifty, q) =
      frames.free_in_on frugal lower behind among tds bodies s ms access (first_or Null (operands_of all)) c (look s.heap (first_or Null (operands_of all))) (without all) k freely q
  frame_on (Declares x) k ms all inner plain freely unborn q = frames.declares_on frugal lower behind among tds bodies s ms x (first_or Null (operands_of all)) (without all) k q
  frame_on (DeclaresRecord x t) k [] all inner plain freely unborn q = absurd q
  frame_on (DeclaresRecord x t) k (m ∷ ms) all inner plain freely unborn q =
      frames.record_declares_on frugal lower behind among tds bodies s (m ∷ ms) x t (newest_ones named (words_of tds t) (now all k (m ∷ ms)))
      (with_operands (drop (words_of tds t) (operands_of all)) all) k (fills t (apart frugal.objects (fills_parts frugal t) q.0).1)
      (unborn (apart frugal.objects (fills_parts frugal t) q.0).0 (next_id s.heap) (past_unborn s.heap)) q
  frame_on Writes k ms all inner plain freely unborn (thrifty, q) =
      frames.line_on frugal lower behind among tds bodies s ms (named.reads_integer (first_or Null (operands_of all))) (without all) k q
  frame_on (Ends v) k ms all inner plain freely unborn (thrifty, q) = frames.end_on frugal lower behind among tds bodies s ms v (look s.heap v) all k q
  frame_on (GivesBack v cause pool) k ms all inner plain freely unborn (thrifty, q) = frames.back_on frugal lower behind among tds bodies s ms v cause pool (lent s.heap v) all k q
  frame_on (Clears x) k ms all inner plain freely unborn (thrifty, q) = frames.puts_on frugal lower behind among tds bodies s ms x Null all k q
  frame_on (ClearsIn o c) k ms all inner plain freely unborn (thrifty, q) = frames.store_on frugal lower behind among tds bodies s ms o c Null (look s.heap o) all k q
  frame_on (Treats v treatment tasks) k ms all inner plain freely unborn q = absurd (cc plain)
  frame_on Confines k ms all inner plain freely unborn q = frames.on frugal lower behind among tds bodies s ms _ refl q.1
  frame_on (Resumes mode) k ms all inner plain freely unborn (thrifty, q) = frames.on frugal lower behind among tds bodies s ms _ refl q
  frame_on f k ms all inner plain freely unborn q = absurd q.0

  -- The innermost master is being left, and no object is treated next.
  leaving_on : (k : Control) (ms : List Master) → (all : List (Activation Value)) → TreatsNothing k → (frugal.objects ≡ true → LeftAlone s.heap (ms ++ lower) k)
      → FrugalLeaves frugal behind among k ms → Fine (mode_next named tds bodies Running (now all k ms))
  leaving_on [] ms all none alone q = absurd q
  leaving_on (Leaves left ∷ k) ms all none alone q = frames.leaves_on frugal lower behind among tds bodies s ms left all k alone q
  leaving_on (Ends v ∷ k) ms all none alone q = frames.end_left_on frugal lower behind among tds bodies s v (look s.heap v) ms all k q
  leaving_on (GivesBack v cause pool ∷ k) ms all none alone q = frames.back_left_on frugal lower behind among tds bodies s v cause pool (lent s.heap v) ms all k q
  leaving_on (Treats v treatment tasks ∷ k) ms all none alone q = absurd (none v treatment tasks k refl)
  leaving_on (Confines ∷ k) ms all none alone q = frames.leaving_on frugal lower behind among tds bodies s ms s.heap all k q.1
  leaving_on (f ∷ k) ms all none alone q = absurd q

  -- An object that begins first goes on doing so, where it is not treated next: the body of an operation has ended.
  beginning_on : (k : Control) (ms : List Master) → (all : List (Activation Value)) → TreatsNothing k → FrugalBegins frugal behind among k ms → Fine (mode_next named tds bodies Running (now all k ms))
  beginning_on [] ms all none q = absurd q
  beginning_on (Treats v treatment tasks ∷ k) ms all none q = absurd (none v treatment tasks k refl)
  beginning_on (Copies first t ∷ k) ms all none q =
      frames.copies_begin_on frugal lower behind among tds bodies s ms (first_or Null (operands_of all)) first (width_of tds t) (look s.heap (first_or Null (operands_of all))) (without all) k q
  beginning_on (StoresRecord o first count ∷ k) ms all none q =
      frames.store_begin_on frugal lower behind among tds bodies s ms o first count (look s.heap o) all k q
  beginning_on (Awaits v by done of part tasks ∷ k) ms all none q = frames.awaited_on frugal lower behind among tds bodies s ms v by done of part tasks (look s.heap v) all k q.0 q.1
  beginning_on (Confines ∷ k) ms all none q = frames.begins_so frugal lower behind among tds bodies s ms _ refl refl q.1
  beginning_on (f ∷ k) ms all none q = absurd q

  -- An exception has come out of the beginning of an object, or goes on where one is to begin.
  breaking_on : (e : Exception) (k : Control) (ms : List Master) → (all : List (Activation Value)) → FrugalBegins frugal behind among k ms → Fine (mode_next named tds bodies (Raising e) (frames.jumping_in frugal lower behind among tds bodies s e all k ms))
  breaking_on e [] ms all q = absurd q
  breaking_on e (Treats v (begins by done) tasks ∷ k) ms all q = frames.on frugal lower behind among tds bodies s ms _ refl q.1
  breaking_on e (Treats v (ends cause) tasks ∷ k) ms all q = frames.breaks_so frugal lower behind among tds bodies s ms e _ refl refl q.1
  breaking_on e (Copies first t ∷ k) ms all q = frames.breaks_so frugal lower behind among tds bodies s ms e _ refl refl q
  breaking_on e (StoresRecord o first count ∷ k) ms all (inl (same, q)) = frames.breaks_so frugal lower behind among tds bodies s ms e _ refl refl q
  breaking_on e (StoresRecord o first count ∷ k) ms all (inr q) = frames.on frugal lower behind among tds bodies s ms _ refl q
  breaking_on e (Awaits v by done of part tasks ∷ k) ms all q = frames.broken_on frugal lower behind among tds bodies s ms ends_created e v by done all k q.0 q.1
  breaking_on e (Confines ∷ k) ms all q = tt
  breaking_on e (f ∷ k) ms all q = absurd q

  -- A jump passes what is left of the body, or lands there.
  abbrev passing : Mode → List (Activation Value) → Control → List Master → State
  passing m all k ms = record s { mode = m; control = k; activations = all; masters = ms ++ lower }

  handled_on : (e : Exception) (hs : HandlersForm) (found : Option StmtsForm) → handler_of e hs ≡ found → (k : Control) → are_thrifty_handlers frugal hs ≡ true → (ms : List Master) → (all : List (Activation Value)) → FrugalLeads frugal behind among k ms → Fine (landed named (handler_landing found) (Raising e) (passing (Raising e) all k ms))
  handled_on e hs None is k thrifty ms all q = frames.on frugal lower behind among tds bodies s ms _ refl q
  handled_on e hs (Some no_stmts) is k thrifty ms all q = tt
  handled_on e hs (Some (a_stmt f fs)) is k thrifty ms all q = frames.on frugal lower behind among tds bodies s ms _ refl (handler_frugal frugal hs e (a_stmt f fs) is thrifty, q)

  raising_on : (e : Exception) (f : Frame Value) (k : Control) (ms : List Master) → (all : List (Activation Value)) → IsInner f k ms → FrugalLeads frugal behind among (f ∷ k) ms → Fine (jump_next named (Raising e) (f ∷ k) (passing (Raising e) all (f ∷ k) ms))
  raising_on e (Elaborates ds fs hs) k [] all inner q = absurd q
  raising_on e (Elaborates ds fs hs) k (m ∷ ms) all inner q = frames.leaves_first frugal lower behind among tds bodies s (m ∷ ms) (Raising e) k _ refl refl refl (q.0.0, q.1)
  raising_on e Closes k [] all inner q = absurd q
  raising_on e Closes k (m ∷ ms) all inner q = frames.leaves_first frugal lower behind among tds bodies s (m ∷ ms) (Raising e) k _ refl refl refl q
  raising_on e (Handles hs) k ms all inner q = handled_on e hs (handler_of e hs) refl k q.0 ms all q.1
  raising_on e (Returns actuals references) k ms all inner q = frames.on frugal lower behind among tds bodies s ms _ refl inner
  raising_on e (Awaits v by done of part tasks) k ms all inner q = absurd q.0
  raising_on e Confines k ms all inner q = tt
  raising_on e (Declares x) k [] all inner q = absurd q
  raising_on e (Declares x) k (m ∷ ms) all inner q = frames.on frugal lower behind among tds bodies s (m ∷ ms) _ refl q.1
  raising_on e (DeclaresRecord x t) k [] all inner q = absurd q
  raising_on e (DeclaresRecord x t) k (m ∷ ms) all inner q = frames.on frugal lower behind among tds bodies s (m ∷ ms) _ refl q.1
  raising_on e f k ms all inner q = frames.on frugal lower behind among tds bodies s ms _ refl q.1

  exiting_on : (f : Frame Value) (k : Control) (ms : List Master) → (all : List (Activation Value)) → IsInner f k ms → FrugalLeads frugal behind among (f ∷ k) ms → Fine (jump_next named Exiting (f ∷ k) (passing Exiting all (f ∷ k) ms))
  exiting_on (Elaborates ds fs hs) k [] all inner q = absurd q
  exiting_on (Elaborates ds fs hs) k (m ∷ ms) all inner q = frames.leaves_first frugal lower behind among tds bodies s (m ∷ ms) Exiting k _ refl refl refl (q.0.0, q.1)
  exiting_on Closes k [] all inner q = absurd q
  exiting_on Closes k (m ∷ ms) all inner q = frames.leaves_first frugal lower behind among tds bodies s (m ∷ ms) Exiting k _ refl refl refl q
  exiting_on (Returns actuals references) k ms all inner q = frames.on frugal lower behind among tds bodies s ms _ refl inner
  exiting_on (Awaits v by done of part tasks) k ms all inner q = absurd q.0
  exiting_on Confines k ms all inner q = tt
  exiting_on (Declares x) k [] all inner q = absurd q
  exiting_on (Declares x) k (m ∷ ms) all inner q = frames.on frugal lower behind among tds bodies s (m ∷ ms) _ refl q.1
  exiting_on (DeclaresRecord x t) k [] all inner q = absurd q
  exiting_on (DeclaresRecord x t) k (m ∷ ms) all inner q = frames.on frugal lower behind among tds bodies s (m ∷ ms) _ refl q.1
  exiting_on f k ms all inner q = frames.on frugal lower behind among tds bodies s ms _ refl q.1

  returning_on : (f : Frame Value) (k : Control) (ms : List Master) → (all : List (Activation Value)) → IsInner f k ms → FrugalLeads frugal behind among (f ∷ k) ms → Fine (jump_next named Returning (f ∷ k) (passing Returning all (f ∷ k) ms))
  returning_on (Elaborates ds fs hs) k [] all inner q = absurd q
  returning_on (Elaborates ds fs hs) k (m ∷ ms) all inner q = frames.leaves_first frugal lower behind among tds bodies s (m ∷ ms) Returning k _ refl refl refl (q.0.0, q.1)
  returning_on Closes k [] all inner q = absurd q
  returning_on Closes k (m ∷ ms) all inner q = frames.leaves_first frugal lower behind among tds bodies s (m ∷ ms) Returning k _ refl refl refl q
  returning_on (Returns actuals references) k ms all inner q = frames.on frugal lower behind among tds bodies s ms _ refl (frames.storing_left frugal lower behind among tds bodies s ms references k inner)
  returning_on (Awaits v by done of part tasks) k ms all inner q = absurd q.0
  returning_on Confines k ms all inner q = tt
  returning_on (Declares x) k [] all inner q = absurd q
  returning_on (Declares x) k (m ∷ ms) all inner q = frames.on frugal lower behind among tds bodies s (m ∷ ms) _ refl q.1
  returning_on (DeclaresRecord x t) k [] all inner q = absurd q
  returning_on (DeclaresRecord x t) k (m ∷ ms) all inner q = frames.on frugal lower behind among tds bodies s (m ∷ ms) _ refl q.1
  returning_on f k ms all inner q = frames.on frugal lower behind among tds bodies s ms _ refl q.1

  -- Whatever the mode is.
  is_inner : (f : Frame Value) (k : Control) (ms : List Master) → ((actuals : List ActualForm) (references : List Value) (j : Control) → f ∷ k ≡ Returns actuals references ∷ j → FrugalLeads frugal behind among j ms) → IsInner f k ms
  is_inner (Returns actuals references) k ms inner = inner actuals references k refl
  is_inner f k ms inner = tt

  is_plain : (f : Frame Value) (k : Control) → TreatsNothing (f ∷ k) → is_treatment f ≡ false
  is_plain (Treats v treatment tasks) k none = absurd (none v treatment tasks k refl)
  is_plain f k none = refl

  -- While a master is left, nothing jumps but what comes out of a Finalize: the run ends there.
  leaving_in : (mode : Mode) (k : Control) (ms : List Master) (all : List (Activation Value)) → (mode ≡ Running → TreatsNothing k)
      → (frugal.objects ≡ true → mode ≡ Running → LeftAlone s.heap (ms ++ lower) k) → MayLeave mode k → FrugalLeaves frugal behind among k ms
      → Fine (mode_next named tds bodies mode (passing mode all k ms))
  leaving_in Running k ms all none alone may q = leaving_on k ms all (none refl) (λ created. alone created refl) q
  leaving_in mode [] ms all none alone may q = absurd q
  leaving_in (Raising e) (Confines ∷ k) ms all none alone may q = tt
  leaving_in (Raising e) (f ∷ k) ms all none alone may q = absurd (cc may)
  leaving_in Exiting (Confines ∷ k) ms all none alone may q = absurd may
  leaving_in Exiting (f ∷ k) ms all none alone may q = absurd (cc may)
  leaving_in Returning (Confines ∷ k) ms all none alone may q = absurd may
  leaving_in Returning (f ∷ k) ms all none alone may q = absurd (cc may)

  mode_on : (mode : Mode) (k : Control) (ms : List Master) (all : List (Activation Value))
      → ((actuals : List ActualForm) (references : List Value) (j : Control) → k ≡ Returns actuals references ∷ j → FrugalLeads frugal behind among j ms) → (mode ≡ Running → TreatsNothing k)
      → (mode ≡ Running → NextIsFreely frugal tds k s.heap (places_of all) (operands_of all)) → (frugal.objects ≡ true → Unborn s.heap k)
      → (frugal.objects ≡ true → mode ≡ Running → LeftAlone s.heap (ms ++ lower) k) → Frugal frugal behind among mode k ms
      → Fine (mode_next named tds bodies mode (passing mode all k ms))
  mode_on mode k ms all inner none freely unborn alone (inr (inl (may, leaving))) = leaving_in mode k ms all none alone may leaving
  mode_on Running k ms all inner none freely unborn alone (inr (inr (may, beginning))) = beginning_on k ms all (none refl) beginning
  mode_on (Raising e) k ms all inner none freely unborn alone (inr (inr (may, beginning))) = breaking_on e k ms all beginning
  mode_on Exiting k ms all inner none freely unborn alone (inr (inr (may, beginning))) = absurd may
  mode_on Returning k ms all inner none freely unborn alone (inr (inr (may, beginning))) = absurd may
  mode_on mode [] ms all inner none freely unborn alone (inl q) = absurd q
  mode_on Running (f ∷ k) ms all inner none freely unborn alone (inl q) = frame_on f k ms all (is_inner f k ms inner) (is_plain f k (none refl)) (freely refl) unborn q
  mode_on (Raising e) (f ∷ k) ms all inner none freely unborn alone (inl q) = raising_on e f k ms all (is_inner f k ms inner) q
  mode_on Exiting (f ∷ k) ms all inner none freely unborn alone (inl q) = exiting_on f k ms all (is_inner f k ms inner) q
  mode_on Returning (f ∷ k) ms all inner none freely unborn alone (inl q) = returning_on f k ms all (is_inner f k ms inner) q

-- Where a body comes to its end next, it is one that was called: what called it goes on in these masters.
abbrev pub EndsInner : (frugal : Allowance) (behind : Control) (among : List Value) → Control → List Master → Type 0
EndsInner frugal behind among k ms = (actuals : List ActualForm) (references : List Value) (j : Control) → k ≡ Returns actuals references ∷ j → FrugalLeads frugal behind among j ms

-- While a frugal body runs, or one that it calls, and its own end is not next, whatever comes next is in such a body, too, where no object is treated next.
-- Each Free of what runs is by the instance for the access type of what it frees (13.11.2), among some types; and where bodies may free objects with controlled
-- parts, no object of these types that is freed next and is in its collection has an operation that runs, unless one begins first. Where they may create such objects, they may
-- free some, no operation runs of an object that does not exist, and none of one in a master that is left next.
pub frugal_steps :
    (p : ProgramForm) → OwnBody p → (tds : List TypeDefinition) (bodies : List BodyForm) (frugal : Allowance) → ObjectIsBare frugal.types tds → RecordIsBare frugal.types tds → RecordIsInside frugal tds
    → FindsFrugal frugal bodies → EndsCreated frugal
    → (behind : Control) (among : List Value) (lower : List Master) (s : State) (f : Frugally frugal lower behind among s)
    → EndsInner frugal behind among s.control f.upper → (s.mode ≡ Running → TreatsNothing s.control) → typed.TypedIn p s
    → (may : ℕ → Bool) → (s.mode ≡ Running → FreesAmong may s.control)
    → (frugal.treats_parts ≡ true → s.mode ≡ Running → begins_first s.control ≡ false
    → ListedAlone may (IsFreedNext s.heap (places_of s.activations) (operands_of s.activations) s.control) s.heap s.control)
    → (frugal.objects ≡ true → Unborn s.heap s.control)
    → (frugal.objects ≡ true → s.mode ≡ Running → LeftAlone s.heap s.masters s.control)
    → (frugal.treats_parts ≡ true → s.mode ≡ Running → AssignsBeside frugal tds s.control (operands_of s.activations))
    → GoesFrugally frugal lower behind among (next tds bodies s)
unfolding next
frugal_steps p whole tds bodies frugal bare records_bare records_inside finds_frugal ends_created behind among lower s f inner none typing may frees alone unborn left beside =
    subst (λ (t : State). GoesFrugally frugal lower behind among (mode_next named tds bodies s.mode t)) state_is
    (mode_on frugal lower behind among tds bodies bare records_bare records_inside finds_frugal ends_created s s.mode s.control f.upper s.activations inner none
    (λ runs. by runs f.frugally (frees runs) (next_own p whole s typing runs)) unborn (λ created runs. subst (λ (ms : List Master). LeftAlone s.heap ms s.control) f.masters (left created runs)) f.frugally)
  where
    by : s.mode ≡ Running → Frugal frugal behind among s.mode s.control f.upper → FreesAmong may s.control → NextFreesOwn s.control s.heap (places_of s.activations) (operands_of s.activations)
        → NextIsFreely frugal tds s.control s.heap (places_of s.activations) (operands_of s.activations)
    by runs (inl q) freely own =
        next_freely frugal tds bare may behind among s.heap (places_of s.activations) (operands_of s.activations) s.control f.upper
        (λ treats_parts. alone treats_parts runs (leads_first frugal behind among s.control f.upper q)) (λ treats_parts. beside treats_parts runs) q freely own
    by runs (inr (inl (may', leaving))) freely own = leaving_freely s.control f.upper leaving
      where
        leaving_freely : (k : Control) (ms : List Master) → FrugalLeaves frugal behind among k ms → NextIsFreely frugal tds k s.heap (places_of s.activations) (operands_of s.activations)
        leaving_freely [] ms leaves = tt
        leaving_freely (Leaves mode ∷ k) ms leaves = tt
        leaving_freely (Ends v ∷ k) ms leaves = tt
        leaving_freely (GivesBack v cause pool ∷ k) ms leaves = tt
        leaving_freely (Treats v treatment tasks ∷ k) ms leaves = tt
        leaving_freely (Confines ∷ k) ms leaves = tt
        leaving_freely (g ∷ k) ms leaves = absurd leaves
    by runs (inr (inr (may', beginning))) freely own = beginning_freely s.control f.upper beginning
      where
        beginning_freely : (k : Control) (ms : List Master) → FrugalBegins frugal behind among k ms → NextIsFreely frugal tds k s.heap (places_of s.activations) (operands_of s.activations)
        beginning_freely [] ms q = tt
        beginning_freely (Treats v treatment tasks ∷ k) ms q = tt
        beginning_freely (Awaits v how done of part tasks ∷ k) ms q = tt
        beginning_freely (Copies first t ∷ k) ms q = tt
        beginning_freely (StoresRecord o first count ∷ k) ms q = tt
        beginning_freely (Confines ∷ k) ms q = tt
        beginning_freely (g ∷ k) ms q = absurd q

    -- The state, by its parts.
    state_is : record s { masters = f.upper ++ lower } ≡ s
    state_is = subst (λ (ms : List Master). record s { masters = ms } ≡ s) f.masters refl

-- The body, or what it calls, runs on, unless its own end is next, or an object is treated, in a run of a well-formed program.
pub frugal_goes :
    (program : Program) → FreesItsOwn (program_form program)
    → (lower : List Master) (behind : Control) (among : List Value) (s : State) (f : Frugally (allowance_of (program_form program)) lower behind among s)
    → EndsInner (allowance_of (program_form program)) behind among s.control f.upper → (s.mode ≡ Running → TreatsNothing s.control)
    → typed.TypedIn (seen_in (running_procedure s) (program_form program)) s
    → (may : ℕ → Bool) → (s.mode ≡ Running → FreesAmong may s.control)
    → (s.mode ≡ Running → begins_first s.control ≡ false
    → ListedAlone may (IsFreedNext s.heap (places_of s.activations) (operands_of s.activations) s.control) s.heap s.control)
    → Unborn s.heap s.control → (s.mode ≡ Running → LeftAlone s.heap s.masters s.control)
    → (s.mode ≡ Running → AssignsBeside (allowance_of (program_form program)) program.types.items s.control (operands_of s.activations))
    → GoesFrugally (allowance_of (program_form program)) lower behind among (next program.types.items (body_forms program) s)
frugal_goes program whole lower behind among s f inner none typing may frees alone unborn left beside =
    let p = program_form program in
    let procedure = running_procedure s in
    frugal_steps (seen_in procedure p) (own_bodies p whole procedure) program.types.items (body_forms program) (allowance_of p) (bare_by program) (records_bare_by program) (record_inside program, object_inside program)
    (λ number b there told. body_thrifty p b (frugal_at p number b told there)) (λ created. refl) behind among lower s f inner none typing may frees
    (λ treats_parts. alone) (λ created. unborn) (λ created. left) (λ treats_parts. beside)

-- Where a record is adjusted of which no Adjust is overridden, none is called; and where one is finalized of which no Finalize is, none of these (7.6).
abbrev pub CallsNothing : Allowance → List TypeDefinition → Type 0
CallsNothing frugal tds =
    (tasks : List Task) (of part : ℕ) → task_next tasks ≡ Perform of part
    → (AreKnown frugal.types frugal.unadjusted tasks → procedure_number (operations_of tds of).adjust ≡ None)
    × (AreKnown frugal.types frugal.unfinalized tasks → procedure_number (operations_of tds of).finalize ≡ None)

adjusting_none : (tds : List TypeDefinition) (by : Birth) → IsAdjusted by → (of : ℕ) → procedure_number (operations_of tds of).adjust ≡ None → beginning by (operations_of tds of) ≡ None
adjusting_none tds Creation adjusted of none = absurd adjusted
adjusting_none tds Copy adjusted of none = none
adjusting_none tds (Adjustment number) adjusted of none = none

-- It stays so once a component is picked,
abbrev pub StaysInert : Allowance → List TypeDefinition → Type 0
StaysInert frugal tds =
    (known : List Bool) (tasks : List Task) (direction : Direction) (i : ℕ) → AreKnown frugal.types known tasks
    → AreKnown frugal.types known (picked_task (shapes_of tds) direction tasks i)

-- once an operation has been called, or would have been,
inert_performed : (frugal : Allowance) (known : List Bool) (tasks : List Task) → AreKnown frugal.types known tasks → AreKnown frugal.types known (performed tasks)
inert_performed frugal known tasks inert = (inert.0, inert.1, performed_inside frugal.types inert.0 tasks inert.2)

-- and where nothing is left.
no_tasks_inert : (frugal : Allowance) (known : List Bool) (tasks : List Task) → AreKnown frugal.types known tasks → AreKnown frugal.types known []
no_tasks_inert frugal known tasks inert = (inert.0, inert.1, tt)

-- A record of an object is assigned to, and no operation of that runs.
abbrev pub ReplacesThere : (frugal : Allowance) → Value → Cause → Control → Type 0
ReplacesThere frugal v cause k =
    IsAssigned cause × (copies_first k ≡ true) × (frugal.treats_parts ≡ true) × IsReplacing v k × NoOperationRunsOn v k

-- An object is freed or undone, or its master is left, or a record of it is assigned to, or it begins, and no operation of it runs behind; and then this is
-- left to do.
abbrev pub IsTreated : (frugal : Allowance) → (back : Control) → (among : List Value) → (v : Value) → Control → List Master → Treatment → Type 0
IsTreated frugal back among v k ms (begins by done) = BeginsThere frugal v by k × FrugalLeads frugal back among k ms
IsTreated frugal back among v k ms (ends cause) =
    (EndsThere frugal v (ends cause) k × FrugalLeads frugal back among k ms)
    ⊎ ((LeavesThere frugal v (ends cause) k × FrugalLeaves frugal back among k ms) ⊎ (ReplacesThere frugal v cause k × FrugalBegins frugal back among k ms))

-- An object is treated next that such a body frees, or whose master it leaves (7.6.1), or that it allocates or declares (4.8, 3.3.1), or a record to which it
-- assigns: the body of an operation begins, or what is left to do is so behind that.
module _ (frugal : Allowance) (lower : List Master) (back : Control) (among : List Value) (tds : List TypeDefinition) (bodies : List BodyForm) (s : State) (Calls : Type 0) where
  abbrev pub GoesOrBegins : State → Type 0
  GoesOrBegins after =
      (Frugally frugal lower back among after × (length after.activations ≡ length s.activations))
      ⊎ ((length after.activations ≡ suc (length s.activations)) × Calls)

  abbrev pub GoesTreating : Next → Type 0
  GoesTreating n = Each GoesOrBegins n

  module _ (v : Value) (k : Control) where
    abbrev left_with : List Object → Control → State
    left_with heap c = record s { heap = heap; control = c }

    called_on : Calls → (heap : List Object) (behind : Control) (procedure : ℕ) (found : Option BodyForm) (reference : Value) (event : Event Value) → GoesTreating (operation_next named procedure found reference behind event (left_with heap k))
    called_on calls heap behind procedure None reference event = tt
    called_on calls heap behind procedure (Some b) reference event = inr (refl, calls)

    -- It is finalized, and goes on being so.
    module _ (calls : Calls) (cause : Cause) (goes_on : (heap : List Object) (tasks : List Task) → GoesOrBegins (left_with heap (treating v (ends cause) tasks k))) where
      ended_on : (heap : List Object) (tasks : List Task) (part : ℕ) (state : PartState) (operation : Option ℕ) (event : Event Value) → GoesTreating (ended_next named bodies v part state (treating v (ends cause) tasks k) operation event (left_with heap k))
      ended_on heap tasks part state None event = goes_on heap tasks
      ended_on heap tasks part state (Some procedure) event = called_on calls heap (Confines ∷ treating v (ends cause) tasks k) procedure (slice_get bodies procedure) _ event

      finalized_on : (of part : ℕ) (tasks : List Task) (operation : Option ℕ) (found : Option PartState) → GoesTreating (finalized_next named bodies v cause of part tasks operation found (record s { control = k }))
      finalized_on of part tasks operation None = tt
      finalized_on of part tasks operation (Some state) = by state.alive
        where
          by : (alive : Bool) → GoesTreating (if alive then ended_next named bodies v part state (treating v (ends cause) tasks k) operation (Finalized v part state.turn of state.number cause) (record s { heap = finalize s.heap v part; control = k }) else halts (Erroneous FinalizesTwice))
          by true = ended_on (finalize s.heap v part) tasks part state operation _
          by false = tt

      performed_on : (of part : ℕ) (tasks : List Task) (found : Found (Cell Value)) → GoesTreating (performed_next named tds bodies v (ends cause) of part tasks found (record s { control = k }))
      performed_on of part tasks on_null = tt
      performed_on of part tasks on_gone = tt
      performed_on of part tasks on_other = tt
      performed_on of part tasks (finds cell) = finalized_on of part tasks (procedure_number (operations_of tds of).finalize) (slice_get cell.parts part)

      treats_on : (tasks : List Task) (n : NextTask) → GoesTreating (treats_next named tds bodies v (ends cause) tasks n (record s { control = k }))
      treats_on tasks Done = goes_on s.heap []
      treats_on tasks (Pick count) = by (count == 0)
        where
          by : (none : Bool) → GoesTreating (if none then halts Stuck else picks count (λ i. treated_on named v (ends cause) (picked_task (shapes_of tds) (direction_of (ends cause)) tasks i) (record s { control = k })))
          by true = tt
          by false = λ i lt. goes_on s.heap (picked_task (shapes_of tds) (direction_of (ends cause)) tasks i)
      treats_on tasks (Perform of part) = performed_on of part (performed tasks) (look s.heap v)

    -- Or a record that is assigned to is, of which nothing is overridden: so it stays, whatever is left of that.
    module _ (inert_calls : CallsNothing frugal tds) (inert_picked : StaysInert frugal tds) where
      -- It is finalized.
      module _ (cause : Cause) (goes_on : (heap : List Object) (tasks : List Task) → AreKnown frugal.types frugal.unfinalized tasks → GoesOrBegins (left_with heap (treating v (ends cause) tasks k))) where
        inert_ended_on : (tasks : List Task) → AreKnown frugal.types frugal.unfinalized tasks → (of part : ℕ) → (procedure_number (operations_of tds of).finalize ≡ None) → (found : Option PartState)
            → GoesTreating (finalized_next named bodies v cause of part tasks (procedure_number (operations_of tds of).finalize) found (record s { control = k }))
        inert_ended_on tasks inert of part none None = tt
        inert_ended_on tasks inert of part none (Some state) = by state.alive (procedure_number (operations_of tds of).finalize) none
          where
            by : (alive : Bool) (operation : Option ℕ) → operation ≡ None → GoesTreating (if alive then ended_next named bodies v part state (treating v (ends cause) tasks k) operation (Finalized v part state.turn of state.number cause) (record s { heap = finalize s.heap v part; control = k }) else halts (Erroneous FinalizesTwice))
            by true None none' = goes_on (finalize s.heap v part) tasks inert
            by true (Some procedure) none' = absurd (cc none')
            by false operation none' = tt

        inert_performed_on : (tasks : List Task) → AreKnown frugal.types frugal.unfinalized tasks → (of part : ℕ) → (procedure_number (operations_of tds of).finalize ≡ None) → (found : Found (Cell Value))
            → GoesTreating (performed_next named tds bodies v (ends cause) of part tasks found (record s { control = k }))
        inert_performed_on tasks inert of part none on_null = tt
        inert_performed_on tasks inert of part none on_gone = tt
        inert_performed_on tasks inert of part none on_other = tt
        inert_performed_on tasks inert of part none (finds cell) = inert_ended_on tasks inert of part none (slice_get cell.parts part)

        inert_treats_on : (tasks : List Task) → AreKnown frugal.types frugal.unfinalized tasks → (n : NextTask) → task_next tasks ≡ n → GoesTreating (treats_next named tds bodies v (ends cause) tasks n (record s { control = k }))
        inert_treats_on tasks inert Done is = goes_on s.heap [] (no_tasks_inert frugal frugal.unfinalized tasks inert)
        inert_treats_on tasks inert (Pick count) is = by (count == 0)
          where
            by : (none : Bool) → GoesTreating (if none then halts Stuck else picks count (λ i. treated_on named v (ends cause) (picked_task (shapes_of tds) (direction_of (ends cause)) tasks i) (record s { control = k })))
            by true = tt
            by false = λ i lt. goes_on s.heap (picked_task (shapes_of tds) (direction_of (ends cause)) tasks i) (inert_picked frugal.unfinalized tasks (direction_of (ends cause)) i inert)
        inert_treats_on tasks inert (Perform of part) is =
            inert_performed_on (performed tasks) (inert_performed frugal frugal.unfinalized tasks inert) of part ((inert_calls tasks of part is).1 inert) (look s.heap v)

      -- It is adjusted.
      module _ (by : Birth) (adjusted : IsAdjusted by) (f : Frugally frugal lower back among s) (goes_on : (done : List Part) (tasks : List Task) → AreKnown frugal.types frugal.unadjusted tasks → Frugal frugal back among s.mode (treating v (begins by done) tasks k) f.upper) where
        inert_born_on : (done : List Part) (tasks : List Task) → AreKnown frugal.types frugal.unadjusted tasks → (of part : ℕ) (operation : Option ℕ) → operation ≡ None → (found : Option PartState)
            → GoesTreating (begun_next named bodies v by done of part tasks operation found (record s { control = k }))
        inert_born_on done tasks inert of part operation none None = tt
        inert_born_on done tasks inert of part None none (Some p) = inl (
          record {
            upper = f.upper;
            masters = f.masters;
            frugally = goes_on (record { of = of; number = part } ∷ done) tasks inert;
          },
          refl,
        )
        inert_born_on done tasks inert of part (Some procedure) none (Some p) = absurd (cc none)

        inert_begun_on : (done : List Part) (tasks : List Task) → AreKnown frugal.types frugal.unadjusted tasks → (of part : ℕ) → beginning by (operations_of tds of) ≡ None → (found : Found (Cell Value))
            → GoesTreating (performed_next named tds bodies v (begins by done) of part tasks found (record s { control = k }))
        inert_begun_on done tasks inert of part none on_null = tt
        inert_begun_on done tasks inert of part none on_gone = tt
        inert_begun_on done tasks inert of part none on_other = tt
        inert_begun_on done tasks inert of part none (finds cell) = inert_born_on done tasks inert of part (beginning by (operations_of tds of)) none (slice_get cell.parts part)

        inert_begins_on : (done : List Part) (tasks : List Task) → AreKnown frugal.types frugal.unadjusted tasks → (n : NextTask) → task_next tasks ≡ n → GoesTreating (treats_next named tds bodies v (begins by done) tasks n (record s { control = k }))
        inert_begins_on done tasks inert Done is = inl (record { upper = f.upper; masters = f.masters; frugally = goes_on done [] (no_tasks_inert frugal frugal.unadjusted tasks inert) }, refl)
        inert_begins_on done tasks inert (Pick count) is = by_count (count == 0)
          where
            by_count : (none : Bool) → GoesTreating (if none then halts Stuck else picks count (λ i. treated_on named v (begins by done) (picked_task (shapes_of tds) (direction_of (begins by done)) tasks i) (record s { control = k })))
            by_count true = tt
            by_count false = λ i lt. inl (
              record {
                upper = f.upper;
                masters = f.masters;
                frugally = goes_on done (picked_task (shapes_of tds) (direction_of (begins by done)) tasks i) (inert_picked frugal.unadjusted tasks (direction_of (begins by done)) i inert);
              },
              refl,
            )
        inert_begins_on done tasks inert (Perform of part) is =
            inert_begun_on done (performed tasks) (inert_performed frugal frugal.unadjusted tasks inert) of part (adjusting_none tds by adjusted of ((inert_calls tasks of part is).0 inert)) (look s.heap v)

    -- It is new.
    module _ (by : Birth) (f : Frugally frugal lower back among s) (leads : FrugalLeads frugal back among k f.upper) (runs : s.mode ≡ Running) (fresh : BeginsThere frugal v by k) (calls : Calls) where
      goes_begun : (done : List Part) (tasks : List Task) → GoesOrBegins (left_with s.heap (treating v (begins by done) tasks k))
      goes_begun done tasks = inl (
        record {
          upper = f.upper;
          masters = f.masters;
          frugally = rw runs (beginning_frugal frugal back among v by done tasks k f.upper fresh leads);
        },
        refl,
      )

      born_on : (done : List Part) (of part : ℕ) (tasks : List Task) (found : Option PartState) → GoesTreating (born_next named v by done of part tasks found (record s { control = k }))
      born_on done of part tasks None = tt
      born_on done of part tasks (Some p) = inl (
        record {
          upper = f.upper;
          masters = f.masters;
          frugally = rw runs (beginning_frugal frugal back among v by (record { of = of; number = part } ∷ done) tasks k f.upper fresh leads);
        },
        refl,
      )

      begun_on : (done : List Part) (of part : ℕ) (tasks : List Task) (operation : Option ℕ) (found : Option PartState) → GoesTreating (begun_next named bodies v by done of part tasks operation found (record s { control = k }))
      begun_on done of part tasks operation None = tt
      begun_on done of part tasks None (Some p) = born_on done of part tasks (Some p)
      begun_on done of part tasks (Some procedure) (Some p) = called_on calls s.heap (Awaits v by done of part tasks ∷ k) procedure (slice_get bodies procedure) _ Quiet

      starts_on : (done : List Part) (of part : ℕ) (tasks : List Task) (found : Found (Cell Value)) → GoesTreating (performed_next named tds bodies v (begins by done) of part tasks found (record s { control = k }))
      starts_on done of part tasks on_null = tt
      starts_on done of part tasks on_gone = tt
      starts_on done of part tasks on_other = tt
      starts_on done of part tasks (finds cell) = begun_on done of part tasks (beginning by (operations_of tds of)) (slice_get cell.parts part)

      begins_on : (done : List Part) (tasks : List Task) (n : NextTask) → GoesTreating (treats_next named tds bodies v (begins by done) tasks n (record s { control = k }))
      begins_on done tasks Done = goes_begun done []
      begins_on done tasks (Pick count) = by_count (count == 0)
        where
          by_count : (none : Bool) → GoesTreating (if none then halts Stuck else picks count (λ i. treated_on named v (begins by done) (picked_task (shapes_of tds) (direction_of (begins by done)) tasks i) (record s { control = k })))
          by_count true = tt
          by_count false = λ i lt. goes_begun done (picked_task (shapes_of tds) (direction_of (begins by done)) tasks i)
      begins_on done tasks (Perform of part) = starts_on done of part (performed tasks) (look s.heap v)

pub treats_frugally :
    (frugal : Allowance) (lower : List Master) (back : Control) (among : List Value) (tds : List TypeDefinition) (bodies : List BodyForm) (s : State)
    → CallsNothing frugal tds → StaysInert frugal tds → (f : Frugally frugal lower back among s) → s.mode ≡ Running
    → (v : Value) (treatment : Treatment) (tasks : List Task) (k : Control) → s.control ≡ Treats v treatment tasks ∷ k → GoesTreating frugal lower back among tds bodies s (IsTreated frugal back among v k f.upper treatment) (next tds bodies s)
unfolding next
treats_frugally frugal lower back among tds bodies s inert_calls inert_picked f runs v treatment tasks k first =
    coming s.mode s.control runs first
  where
    by_frugal : (treatment' : Treatment) → Frugal frugal back among s.mode (Treats v treatment' tasks ∷ k) f.upper
        → GoesTreating frugal lower back among tds bodies s (IsTreated frugal back among v k f.upper treatment') (treats_next named tds bodies v treatment' tasks (task_next tasks) (record s { control = k }))
    by_frugal (begins how done) (inl q) = absurd q.0.0
    by_frugal (ends cause) (inl q) = treats_on frugal lower back among tds bodies s (IsTreated frugal back among v k f.upper (ends cause)) v k (inl q) cause so tasks (task_next tasks)
      where
        so : (heap : List Object) (left : List Task) → GoesOrBegins frugal lower back among tds bodies s (IsTreated frugal back among v k f.upper (ends cause)) (record s { heap = heap; control = treating v (ends cause) left k })
        so heap left = inl (
          record {
            upper = f.upper;
            masters = f.masters;
            frugally = inl (treating_leads frugal back among v (ends cause) left k f.upper q.0 q.1);
          },
          refl,
        )
    by_frugal (begins how done) (inr (inl (may, q))) = absurd q.0.0
    by_frugal (ends cause) (inr (inl (may, q))) = treats_on frugal lower back among tds bodies s (IsTreated frugal back among v k f.upper (ends cause)) v k (inr (inl q)) cause so tasks (task_next tasks)
      where
        so : (heap : List Object) (left : List Task) → GoesOrBegins frugal lower back among tds bodies s (IsTreated frugal back among v k f.upper (ends cause)) (record s { heap = heap; control = treating v (ends cause) left k })
        so heap left = inl (
          record {
            upper = f.upper;
            masters = f.masters;
            frugally = inr (inl (rw runs (may_leave (treating v (ends cause) left k)), treating_leaves frugal back among v (ends cause) left k f.upper q.0 q.1));
          },
          refl,
        )
    by_frugal (begins how done) (inr (inr (may, (inl fresh, q)))) = begins_on frugal lower back among tds bodies s (IsTreated frugal back among v k f.upper (begins how done)) v k how f q runs fresh (fresh, q) done tasks (task_next tasks)
    by_frugal (begins how done) (inr (inr (may, (inr adjusting, q)))) =
        inert_begins_on frugal lower back among tds bodies s (IsTreated frugal back among v k f.upper (begins how done)) v k inert_calls inert_picked how adjusting.0 f so done tasks adjusting.1.1 (task_next tasks) refl
      where
        so : (born : List Part) (left : List Task) → AreKnown frugal.types frugal.unadjusted left → Frugal frugal back among s.mode (treating v (begins how born) left k) f.upper
        so born left inert = rw runs (adjusting_frugal frugal back among v how born left k f.upper (adjusting.0, (adjusting.1.0, inert, adjusting.1.2)) q)
    by_frugal (ends cause) (inr (inr (may, ((assigns, copies, (treats, replacing, inr alone)), q)))) =
        treats_on frugal lower back among tds bodies s (IsTreated frugal back among v k f.upper (ends cause)) v k
        (inr (inr ((assigns, copies, treats, replacing, alone), q))) cause so tasks (task_next tasks)
      where
        so : (heap : List Object) (left : List Task) → GoesOrBegins frugal lower back among tds bodies s (IsTreated frugal back among v k f.upper (ends cause)) (record s { heap = heap; control = treating v (ends cause) left k })
        so heap left = inl (
          record {
            upper = f.upper;
            masters = f.masters;
            frugally = rw runs (finalizing_frugal frugal back among v cause left k f.upper (assigns, copies, (treats, replacing, inr alone)) q);
          },
          refl,
        )
    by_frugal (ends cause) (inr (inr (may, ((assigns, copies, (treats, replacing, inl (own, known))), q)))) =
        inert_treats_on frugal lower back among tds bodies s (IsTreated frugal back among v k f.upper (ends cause)) v k inert_calls inert_picked cause so tasks known (task_next tasks) refl
      where
        so : (heap : List Object) (left : List Task) → AreKnown frugal.types frugal.unfinalized left → GoesOrBegins frugal lower back among tds bodies s (IsTreated frugal back among v k f.upper (ends cause)) (record s { heap = heap; control = treating v (ends cause) left k })
        so heap left inert = inl (
          record {
            upper = f.upper;
            masters = f.masters;
            frugally = rw runs (finalizing_frugal frugal back among v cause left k f.upper (assigns, copies, (treats, replacing, inl (own, inert))) q);
          },
          refl,
        )

    coming : (mode : Mode) (c : Control) → mode ≡ Running → c ≡ Treats v treatment tasks ∷ k → GoesTreating frugal lower back among tds bodies s (IsTreated frugal back among v k f.upper treatment) (mode_next named tds bodies mode (record s { control = c }))
    coming mode c running is = rw (running, is) (by_frugal treatment (subst (λ (j : Control). Frugal frugal back among s.mode j f.upper) first f.frugally))

-- Where bodies free no objects with controlled parts, and declare no record objects, no object is treated.
pub treats_none : (frugal : Allowance) → frugal.treats_parts ≡ false → frugal.objects ≡ false → (behind : Control) (among : List Value) (mode : Mode) (k : Control) (ms : List Master)
    → Frugal frugal behind among mode k ms → TreatsNothing k
treats_none frugal none idle behind among mode k ms (inl q) v treatment tasks j is =
    let first = none_treated frugal none behind among (Treats v treatment tasks) j ms (rw is at q) in
    let never : true ≡ false = first.0 in
    absurd (cc never)
treats_none frugal none idle behind among mode k ms (inr (inl (may, leaving))) v treatment tasks j is =
    let first = none_left frugal idle behind among (Treats v treatment tasks) j ms (rw is at leaving) in
    let never : true ≡ false = first.0 in
    absurd (cc never)
treats_none frugal none idle behind among mode k ms (inr (inr (may, beginning))) v treatment tasks j is =
    let first = none_beginning frugal none idle behind among (Treats v treatment tasks) j ms (rw is at beginning) in
    let never : true ≡ false = first.0 in
    absurd (cc never)

-- No operation of a controlled type ends in such a body, either.
pub none_ends : (frugal : Allowance) → frugal.treats_parts ≡ false → frugal.objects ≡ false → (behind : Control) (among : List Value) (mode : Mode) (k : Control) (ms : List Master)
    → Frugal frugal behind among mode k ms → ends_operation k ≡ false
none_ends frugal none idle behind among mode [] ms frugally = refl
none_ends frugal none idle behind among mode (f ∷ k) ms (inl q) = (none_treated frugal none behind among f k ms q).1
none_ends frugal none idle behind among mode (f ∷ k) ms (inr (inl q)) = (none_left frugal idle behind among f k ms q.1).1
none_ends frugal none idle behind among mode (f ∷ k) ms (inr (inr q)) = (none_beginning frugal none idle behind among f k ms q.1).1

-- A call comes next.
abbrev pub is_call_first : Control → Bool
is_call_first [] = false
is_call_first (Calls number b actuals ∷ k) = true
is_call_first (f ∷ k) = false

-- A frame calls nothing, but where it is a call, or treats an object.
calls_nothing : (f : Frame Value) (k : Control) → is_return f ≡ false → is_call_first (f ∷ k) ≡ false → is_treatment f ≡ false → (crosses_by f || is_treatment f) ≡ false
calls_nothing (Calls number b actuals) k inner none plain = absurd (cc none)
calls_nothing (Returns actuals references) k inner none plain = absurd (cc inner)
calls_nothing (Treats v treatment tasks) k inner none plain = absurd (cc plain)
calls_nothing f k inner none plain = refl

leaving_crosses : (frugal : Allowance) → frugal.objects ≡ false → (behind : Control) (among : List Value) (mode : Mode) (k : Control) (ms : List Master) → MayLeave mode k
    → FrugalLeaves frugal behind among k ms → crosses mode k ≡ false
leaving_crosses frugal idle behind among mode [] ms may leaving = absurd leaving
leaving_crosses frugal idle behind among mode (Leaves left ∷ k) ms may leaving = rw may refl
leaving_crosses frugal idle behind among mode (Ends v ∷ k) ms may leaving = rw may refl
leaving_crosses frugal idle behind among mode (GivesBack v cause pool ∷ k) ms may leaving = rw may refl
leaving_crosses frugal idle behind among mode (Treats v treatment tasks ∷ k) ms may leaving = let creates = leaving.0.1 in absurd (cc (idle, creates))
leaving_crosses frugal idle behind among mode (Confines ∷ k) ms may leaving = let creates = leaving.0.0 in absurd (cc (idle, creates))
leaving_crosses frugal idle behind among mode (f ∷ k) ms may leaving = absurd leaving

-- Where bodies free no objects with controlled parts, and declare no record objects, and neither the end of a body is next, nor the beginning of one, no body
-- begins, none ends, and no operation is called.
pub frugal_crosses : (frugal : Allowance) → frugal.treats_parts ≡ false → frugal.objects ≡ false → (behind : Control) (among : List Value) (mode : Mode) (k : Control) (ms : List Master)
    → Frugal frugal behind among mode k ms → is_return_first k ≡ false → (mode ≡ Running → is_call_first k ≡ false) → crosses mode k ≡ false
frugal_crosses frugal none_ended idle behind among mode k ms (inr (inl (may, leaving))) inner none = leaving_crosses frugal idle behind among mode k ms may leaving
frugal_crosses frugal none_ended idle behind among mode [] ms (inr (inr (may, beginning))) inner none = absurd beginning
frugal_crosses frugal none_ended idle behind among Running (f ∷ k) ms (inr (inr (may, beginning))) inner none =
    calls_nothing f k inner (none refl) (none_beginning frugal none_ended idle behind among f k ms beginning).0
frugal_crosses frugal none_ended idle behind among (Raising e) (f ∷ k) ms (inr (inr (may, beginning))) inner none = inner
frugal_crosses frugal none_ended idle behind among Exiting (f ∷ k) ms (inr (inr (may, beginning))) inner none = inner
frugal_crosses frugal none_ended idle behind among Returning (f ∷ k) ms (inr (inr (may, beginning))) inner none = inner
frugal_crosses frugal none_ended idle behind among mode [] ms (inl q) inner none = absurd q
frugal_crosses frugal none_ended idle behind among Running (f ∷ k) ms (inl q) inner none = calls_nothing f k inner (none refl) (none_treated frugal none_ended behind among f k ms q).0
frugal_crosses frugal none_ended idle behind among (Raising e) (f ∷ k) ms (inl q) inner none = inner
frugal_crosses frugal none_ended idle behind among Exiting (f ∷ k) ms (inl q) inner none = inner
frugal_crosses frugal none_ended idle behind among Returning (f ∷ k) ms (inl q) inner none = inner
