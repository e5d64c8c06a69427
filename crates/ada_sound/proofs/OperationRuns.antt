-- Any step of the body of an operation (7.6).

use Rattle.std.proofs.Common.{◌≡◌, ℕ, Bool, true, false, List, [], ◌∷◌, ◌++◌, refl, subst, ◌⊎◌, inl, inr}
use Rattle.std.specs.Prelude.{Option, Some, None, if◌then◌else◌}
use Rattle.ada_program.specs.declared.program.TypeDefinition.{TypeDefinition}
use Rattle.ada_program.specs.declared.program.Exception.{Exception}
use Rattle.ada_program.specs.Form.{RightForm, nothing, value_of, allocates, allocates_default, computes, StmtsForm, no_stmts, a_stmt, HandlersForm, no_handlers, a_handler}
use Rattle.ada_program.specs.ProgramForm.{BodyForm}
use Rattle.ada_program.specs.Handling.{is_same, handler_of, is_taken, some_takes}
use Rattle.ada_effects.specs.Effects.{no_calls, unary_raises, binary_raises, stmts_raise, handlers_raise}
use Rattle.ada_flow.specs.Flow.{have_exit, handlers_have_exit}
use Rattle.ada_meaning.specs.declared.state.Value.{Value}
use Rattle.ada_meaning.specs.declared.state.Value.TheVariants.{Null, Names}
use Rattle.ada_meaning.specs.declared.state.Mode.{Mode}
use Rattle.ada_meaning.specs.declared.state.Mode.TheVariants.{Running, Raising, Exiting, Returning}
use Rattle.ada_meaning.specs.Event.{Quiet}
use Rattle.ada_meaning.specs.Frame.{Frame, is_return, Elaborates, Does, Decides, Repeats, Turns, Ranges, Counts, Exits, Handles, Closes, Leaves, Returns, Evaluates, Computes, Continues, Applies, AppliesAlone, Stores, Targets, StoresIn, Receives, Declares, Writes, handler_landing}
use Rattle.ada_meaning.specs.State.{Activation, Master}
use Rattle.ada_meaning.specs.Step.{first_or, older, frame_next, landed, jump_next}
use Rattle.ada_meaning.specs.Named.{State, Next, named}
use Rattle.ada_quiet.specs.Quiet.{are_quiet, are_quiet_handlers}
use Rattle.ada_sound.proofs.Invariant.{Control}
use Rattle.ada_sound.proofs.Raising.{or_left, or_right, unary_only, binary_only}
use Rattle.ada_sound.proofs.OperationStarts.{apart}
use Rattle.ada_sound.proofs.Operating.{Sight, AreScalars, StaysIn, IsInLoop, GoesIn, RunsIn, HandlesIn, EvaluatesIn, Quietly, Parts, Finds, Comes, Body}
use Rattle.ada_sound.proofs.OperationSteps as steps
use Rattle.ada_sound.proofs.OperationSteps.{acting, After, GoesOnIn}
use Rattle.ada_sound.proofs.OperationStatements as statements
use Rattle.ada_sound.proofs.OperationFrames as frames

-- What is evaluated for a component is so in front of its store.
into_store : (sight : Sight) (right : RightForm) (v : Value) (c : ℕ) (k : Control) → EvaluatesIn sight right k → EvaluatesIn sight right (StoresIn v c ∷ k)
into_store sight nothing v c k into = into
into_store sight (value_of path) v c k into = into
into_store sight (allocates access items) v c k into = into
into_store sight (allocates_default access) v c k into = into
into_store sight (computes e) v c k into = into

-- The statements of the handler that takes an exception.
handler_runs : (sight : Sight) (hs : HandlersForm) (k : Control) (e : Exception) (fs : StmtsForm) → handler_of e hs ≡ Some fs → HandlesIn sight hs k → RunsIn sight fs k
handler_runs sight no_handlers k e fs is handles = absurd (cc is)
handler_runs sight (a_handler choices gs hs) k e fs is (quiet, stays, out) = by (some_takes e choices) is (λ later handles. handler_runs sight hs k e fs later handles)
  where
    two : (are_quiet sight.program.types sight.program.variables gs ≡ true) × (are_quiet_handlers sight.program.types sight.program.variables hs ≡ true)
    two = apart (are_quiet sight.program.types sight.program.variables gs) (are_quiet_handlers sight.program.types sight.program.variables hs) quiet

    here : RunsIn sight gs k
    here = (two.0, (λ x may. stays x (or_left (stmts_raise no_calls (is_same x) gs) (handlers_raise no_calls (is_same x) hs) may)), λ o. out (or_left (have_exit gs) (handlers_have_exit hs) o))

    by : (b : Bool) → (if b then Some gs else handler_of e hs) ≡ Some fs → (handler_of e hs ≡ Some fs → HandlesIn sight hs k → RunsIn sight fs k) → RunsIn sight fs k
    by true is' more = let same : gs ≡ fs = cc is' in subst (λ (x : StmtsForm). RunsIn sight x k) same here
    by false is' more = more is' (two.1, (λ x may. stays x (or_right (stmts_raise no_calls (is_same x) gs) (handlers_raise no_calls (is_same x) hs) may)), λ o. out (or_right (have_exit gs) (handlers_have_exit hs) o))

module _ (sight : Sight) (procedure : ℕ) (rest : List (Activation Value)) (lower : List Master) (behind : Control) (tds : List TypeDefinition) (bodies : List BodyForm) (s : State) (ms : List Master) (places : List Value) (k : Control) (whole_control : Control) where
  abbrev popped_state : List Value → State
  popped_state vs = record s { mode = Running; control = k; activations = acting sight procedure rest lower behind places vs ∷ rest; masters = ms ++ lower }

  abbrev Goes : Next → Type 0
  Goes n = GoesOnIn sight procedure rest lower behind s.heap n

  -- The object has been found.
  found_on : (f : Frame Value) (vs : List Value) → Body sight behind ms s.heap places vs Running whole_control → Finds sight behind ms (f ∷ k) vs → Goes (frame_next named tds bodies f (popped_state vs))
  found_on (Leaves left) vs body (all, q) = frames.leaves_on sight procedure rest lower behind tds bodies s places vs k Running whole_control vs all ms left body q
  found_on f [] body found = absurd found
  found_on (Targets c right) (v ∷ vs) body (is, all, into, q) =
      frames.target_on sight procedure rest lower behind tds bodies s ms places k Running whole_control (v ∷ vs) body vs all v c right is (into_store sight right (Names sight.object) c k into) q
  found_on (Receives c) (v ∷ vs) body (is, all, stays, q) =
      frames.receive_on sight procedure rest lower behind tds bodies s ms places k Running whole_control (v ∷ vs) body vs all v c is stays q
  found_on f (v ∷ vs) body found = absurd found

  -- What is left of the body goes on.
  plain_on : (f : Frame Value) (vs : List Value) → is_return f ≡ false → (body : Body sight behind ms s.heap places vs Running whole_control) → AreScalars vs → Quietly sight behind ms (f ∷ k) → Goes (frame_next named tds bodies f (popped_state vs))
  plain_on (Elaborates ds fs hs) vs inner body all q = frames.elaborates_on sight procedure rest lower behind tds bodies s places vs k Running whole_control vs all ms ds fs hs body q
  plain_on (Does no_stmts) vs inner body all (runs, q) = frames.on sight procedure rest lower behind tds bodies s ms places k Running whole_control vs body _ vs k refl refl refl refl refl all q
  plain_on (Does (a_stmt f fs)) vs inner body all (runs, q) =
      let two = statements.first_of sight f fs k runs in
      statements.stmt_on sight procedure rest lower behind tds bodies s ms places vs (Does fs ∷ k) Running whole_control vs body (two.1, q) all f two.0
  plain_on (Decides fs branches) vs inner body all ((runs, chooses), q) = frames.decided_on sight procedure rest lower behind tds bodies s ms places k Running whole_control vs body (older vs) (frames.older_scalars vs all) fs branches (named.reads_boolean (first_or Null vs)) runs chooses q
  plain_on (Repeats condition fs) vs inner body all (turns, q) = frames.repeats_on sight procedure rest lower behind tds bodies s ms places k Running whole_control vs body vs all condition fs turns q
  plain_on (Turns e fs) vs inner body all (turns, q) = frames.turned_on sight procedure rest lower behind tds bodies s ms places k Running whole_control vs body (older vs) (frames.older_scalars vs all) e fs (named.reads_boolean (first_or Null vs)) turns q
  plain_on (Ranges x fs) vs inner body all (counts, q) =
      frames.ranges_on sight procedure rest lower behind tds bodies s ms places k Running whole_control vs body (older (older vs)) (frames.older_scalars (older vs) (frames.older_scalars vs all)) x fs
      (named.reads_integer (first_or Null (older vs))) (named.reads_integer (first_or Null vs)) counts q
  plain_on (Counts x value last fs) vs inner body all (counts, q) = frames.counts_on sight procedure rest lower behind tds bodies s ms places k Running whole_control vs body vs all x value last fs counts q
  plain_on Exits vs inner body all (inside, q) = frames.exited_on sight procedure rest lower behind tds bodies s ms places k Running whole_control vs body (older vs) (frames.older_scalars vs all) (named.reads_boolean (first_or Null vs)) inside q
  plain_on (Handles hs) vs inner body all (handles, q) = frames.on sight procedure rest lower behind tds bodies s ms places k Running whole_control vs body _ vs k refl refl refl refl refl all q
  plain_on Closes vs inner body all q = closes ms body q
    where
      closes : (ns : List Master) → Body sight behind ns s.heap places vs Running whole_control → Quietly sight behind ns (Closes ∷ k) → GoesOnIn sight procedure rest lower behind s.heap (frame_next named tds bodies Closes (record (popped_state vs) { masters = ns ++ lower }))
      closes [] body' q' = absurd q'
      closes (n ∷ ns) body' q' = frames.parts sight procedure rest lower behind tds bodies s (n ∷ ns) places k Running whole_control vs body' Quiet _ vs (n ∷ ns) Running tt refl refl refl refl refl body'.own all (tt, q'.1)
  plain_on (Returns actuals references) vs inner body all q = absurd (cc inner)
  plain_on (Evaluates right) vs inner body all (into, q) = frames.right_on sight procedure rest lower behind tds bodies s ms places k Running whole_control vs body vs all right into q
  plain_on (Computes e) vs inner body all (computes', q) = steps.expression_on sight procedure rest lower behind tds bodies s ms places vs k Running whole_control vs body q vs all e computes'.0 computes'.1
  plain_on (Continues links) vs inner body all (links', q) = frames.links_on sight procedure rest lower behind tds bodies s ms places k Running whole_control vs body vs all links links'.0 links'.1 q
  plain_on (Applies operator) vs inner body all (stays, q) =
      let left = first_or Null (older vs) in
      let right = first_or Null vs in
      steps.outcome_on sight procedure rest lower behind tds bodies s ms places vs k Running whole_control vs body q (older (older vs)) (frames.older_scalars (older vs) (frames.older_scalars vs all)) (binary_raises operator) stays (named.binary operator left right)
      (frames.binary_on sight procedure rest lower behind tds bodies s ms places k Running whole_control vs body vs all operator left right) (binary_only operator left right)
  plain_on (AppliesAlone operator) vs inner body all (stays, q) =
      let operand = first_or Null vs in
      steps.outcome_on sight procedure rest lower behind tds bodies s ms places vs k Running whole_control vs body q (older vs) (frames.older_scalars vs all) (unary_raises operator) stays (named.unary operator operand)
      (frames.unary_on sight procedure rest lower behind tds bodies s ms places k Running whole_control vs body vs all operator operand) (unary_only operator operand)
  plain_on (Stores x) vs inner body all (e, q) =
      frames.puts sight procedure rest lower behind tds bodies s ms places k Running whole_control vs body x (first_or Null vs) (older vs) _ ms k e (frames.newest_scalar vs all) (frames.older_scalars vs all) refl refl refl refl refl body.own q
  plain_on (Declares x) vs inner body all q = frames.declares_on sight procedure rest lower behind tds bodies s places (older vs) k Running whole_control vs (frames.older_scalars vs all) ms x (first_or Null vs) (frames.newest_scalar vs all) body q
  plain_on (StoresIn v c) vs inner body all (is, q) = frames.store_on sight procedure rest lower behind tds bodies s ms places k Running whole_control vs body (older vs) (frames.older_scalars vs all) v c (first_or Null vs) is (frames.newest_scalar vs all) q
  plain_on Writes vs inner body all (x, q) = frames.written_on sight procedure rest lower behind tds bodies s ms places k Running whole_control vs body (older vs) (frames.older_scalars vs all) (named.reads_integer (first_or Null vs)) q
  plain_on f vs inner body all q = absurd q

  -- Any step of the body where no jump is on its way, and the body does not end.
  pub running_on : (f : Frame Value) (vs : List Value) → is_return f ≡ false → (body : Body sight behind ms s.heap places vs Running whole_control) → Comes sight behind ms Running (f ∷ k) vs → Goes (frame_next named tds bodies f (popped_state vs))
  running_on f vs inner body (inl (all, goes, q)) = plain_on f vs inner body all q
  running_on f vs inner body (inr (runs, found)) = found_on f vs body found

-- A jump passes what is left of the body, or lands there.
module _ (sight : Sight) (procedure : ℕ) (rest : List (Activation Value)) (lower : List Master) (behind : Control) (tds : List TypeDefinition) (bodies : List BodyForm) (s : State) (places : List Value) (k : Control) (whole_control : Control) (vs : List Value) (all : AreScalars vs) where
  abbrev jumping_state : Mode → List Master → State
  jumping_state m ns = record s { mode = m; control = k; activations = acting sight procedure rest lower behind places vs ∷ rest; masters = ns ++ lower }

  abbrev Lands : Next → Type 0
  Lands n = GoesOnIn sight procedure rest lower behind s.heap n

  next_is : (m : Mode) (ns : List Master) (after : State) (n : Mode) (j : Control) → Body sight behind ns s.heap places vs m whole_control → after.activations ≡ acting sight procedure rest lower behind places vs ∷ rest → after.masters ≡ ns ++ lower → after.heap ≡ s.heap → after.mode ≡ n → after.control ≡ j → GoesIn sight n j → Quietly sight behind ns j → After sight procedure rest lower behind s.heap Quiet after
  next_is m ns after n j body active masters heap in_mode left goes q =
      frames.go sight procedure rest lower behind tds bodies s ns places k m whole_control vs body Quiet after vs ns n j tt active masters heap in_mode left body.own all goes q

  leaves_next_is : (m : Mode) (ns : List Master) (after : State) → Body sight behind ns s.heap places vs m whole_control → after.activations ≡ acting sight procedure rest lower behind places vs ∷ rest → after.masters ≡ ns ++ lower → after.heap ≡ s.heap → after.mode ≡ Running → after.control ≡ Leaves m ∷ k → Parts sight behind ns m k → After sight procedure rest lower behind s.heap Quiet after
  leaves_next_is m ns after body active masters heap in_mode is q =
      frames.parts sight procedure rest lower behind tds bodies s ns places k m whole_control vs body Quiet after vs ns m tt active masters heap in_mode is body.own all q

  -- A handler takes an exception, or does not.
  handled_on : (ns : List Master) (e : Exception) (hs : HandlersForm) (found : Option StmtsForm) → handler_of e hs ≡ found → Body sight behind ns s.heap places vs (Raising e) whole_control → (is_taken hs e ≡ true) ⊎ StaysIn sight e k → HandlesIn sight hs k → Quietly sight behind ns k → Lands (landed named (handler_landing found) (Raising e) (jumping_state (Raising e) ns))
  handled_on ns e hs None is body (inl taken) handles q = absurd (cc (rw is at taken))
  handled_on ns e hs None is body (inr stays) handles q = next_is (Raising e) ns _ (Raising e) k body refl refl refl refl refl stays q
  handled_on ns e hs (Some no_stmts) is body stays handles q = refl
  handled_on ns e hs (Some (a_stmt f fs)) is body stays handles q =
      next_is (Raising e) ns _ Running (Does (a_stmt f fs) ∷ k) body refl refl refl refl refl tt (handler_runs sight hs k e (a_stmt f fs) is handles, q)

  -- A frame is passed.
  passed_on : (m : Mode) (ns : List Master) → Body sight behind ns s.heap places vs m whole_control → GoesIn sight m k → Quietly sight behind ns k → After sight procedure rest lower behind s.heap Quiet (jumping_state m ns)
  passed_on m ns body goes q = next_is m ns (jumping_state m ns) m k body refl refl refl refl refl goes q

  pub raising_on : (ns : List Master) (e : Exception) (f : Frame Value) → Body sight behind ns s.heap places vs (Raising e) whole_control → is_return f ≡ false → StaysIn sight e (f ∷ k) → Quietly sight behind ns (f ∷ k) → Lands (jump_next named (Raising e) (f ∷ k) (jumping_state (Raising e) ns))
  raising_on [] e (Elaborates ds fs hs) body inner stays q = absurd q
  raising_on (n ∷ ns) e (Elaborates ds fs hs) body inner stays q = leaves_next_is (Raising e) (n ∷ ns) _ body refl refl refl refl refl (stays, q.1)
  raising_on [] e Closes body inner stays q = absurd q
  raising_on (n ∷ ns) e Closes body inner stays q = leaves_next_is (Raising e) (n ∷ ns) _ body refl refl refl refl refl (stays, q.1)
  raising_on ns e (Handles hs) body inner stays q = handled_on ns e hs (handler_of e hs) refl body stays q.0 q.1
  raising_on ns e (Returns actuals references) body inner stays q = absurd (cc inner)
  raising_on ns e (Does fs) body inner stays q = passed_on (Raising e) ns body stays q.1
  raising_on ns e (Decides fs branches) body inner stays q = passed_on (Raising e) ns body stays q.1
  raising_on ns e (Repeats condition fs) body inner stays q = passed_on (Raising e) ns body stays q.1
  raising_on ns e (Turns condition fs) body inner stays q = passed_on (Raising e) ns body stays q.1
  raising_on ns e (Ranges x fs) body inner stays q = passed_on (Raising e) ns body stays q.1
  raising_on ns e (Counts x value last fs) body inner stays q = passed_on (Raising e) ns body stays q.1
  raising_on ns e Exits body inner stays q = passed_on (Raising e) ns body stays q.1
  raising_on ns e (Evaluates right) body inner stays q = passed_on (Raising e) ns body stays q.1
  raising_on ns e (Computes x) body inner stays q = passed_on (Raising e) ns body stays q.1
  raising_on ns e (Continues links) body inner stays q = passed_on (Raising e) ns body stays q.1
  raising_on ns e (Applies operator) body inner stays q = passed_on (Raising e) ns body stays q.1
  raising_on ns e (AppliesAlone operator) body inner stays q = passed_on (Raising e) ns body stays q.1
  raising_on ns e (Stores x) body inner stays q = passed_on (Raising e) ns body stays q.1
  raising_on [] e (Declares x) body inner stays q = absurd q
  raising_on (n ∷ ns) e (Declares x) body inner stays q = passed_on (Raising e) (n ∷ ns) body stays q.1
  raising_on ns e (StoresIn v c) body inner stays q = passed_on (Raising e) ns body stays q.1
  raising_on ns e Writes body inner stays q = passed_on (Raising e) ns body stays q.1
  raising_on ns e f body inner stays q = absurd q

  pub exiting_on : (ns : List Master) (f : Frame Value) → Body sight behind ns s.heap places vs Exiting whole_control → IsInLoop (f ∷ k) → Quietly sight behind ns (f ∷ k) → Lands (jump_next named Exiting (f ∷ k) (jumping_state Exiting ns))
  exiting_on [] (Elaborates ds fs hs) body stays q = absurd q
  exiting_on (n ∷ ns) (Elaborates ds fs hs) body stays q = leaves_next_is Exiting (n ∷ ns) _ body refl refl refl refl refl (stays, q.1)
  exiting_on [] Closes body stays q = absurd q
  exiting_on (n ∷ ns) Closes body stays q = leaves_next_is Exiting (n ∷ ns) _ body refl refl refl refl refl (stays, q.1)
  exiting_on ns (Repeats condition fs) body stays q = next_is Exiting ns _ Running k body refl refl refl refl refl tt q.1
  exiting_on ns (Counts x value last fs) body stays q = next_is Exiting ns _ Running k body refl refl refl refl refl tt q.1
  exiting_on ns (Returns actuals references) body stays q = absurd stays
  exiting_on ns (Does fs) body stays q = passed_on Exiting ns body stays q.1
  exiting_on ns (Decides fs branches) body stays q = passed_on Exiting ns body stays q.1
  exiting_on ns (Turns condition fs) body stays q = passed_on Exiting ns body stays q.1
  exiting_on ns (Ranges x fs) body stays q = passed_on Exiting ns body stays q.1
  exiting_on ns Exits body stays q = passed_on Exiting ns body stays q.1
  exiting_on ns (Handles hs) body stays q = passed_on Exiting ns body stays q.1
  exiting_on ns (Evaluates right) body stays q = passed_on Exiting ns body stays q.1
  exiting_on ns (Computes x) body stays q = passed_on Exiting ns body stays q.1
  exiting_on ns (Continues links) body stays q = passed_on Exiting ns body stays q.1
  exiting_on ns (Applies operator) body stays q = passed_on Exiting ns body stays q.1
  exiting_on ns (AppliesAlone operator) body stays q = passed_on Exiting ns body stays q.1
  exiting_on ns (Stores x) body stays q = passed_on Exiting ns body stays q.1
  exiting_on ns (StoresIn v c) body stays q = passed_on Exiting ns body stays q.1
  exiting_on ns Writes body stays q = passed_on Exiting ns body stays q.1
  exiting_on [] (Declares x) body stays q = absurd q
  exiting_on (n ∷ ns) (Declares x) body stays q = passed_on Exiting (n ∷ ns) body stays q.1
  exiting_on ns f body stays q = absurd q

  pub returning_on : (ns : List Master) (f : Frame Value) → Body sight behind ns s.heap places vs Returning whole_control → is_return f ≡ false → Quietly sight behind ns (f ∷ k) → Lands (jump_next named Returning (f ∷ k) (jumping_state Returning ns))
  returning_on [] (Elaborates ds fs hs) body stays q = absurd q
  returning_on (n ∷ ns) (Elaborates ds fs hs) body stays q = leaves_next_is Returning (n ∷ ns) _ body refl refl refl refl refl (tt, q.1)
  returning_on [] Closes body stays q = absurd q
  returning_on (n ∷ ns) Closes body stays q = leaves_next_is Returning (n ∷ ns) _ body refl refl refl refl refl (tt, q.1)
  returning_on ns (Repeats condition fs) body stays q = passed_on Returning ns body tt q.1
  returning_on ns (Counts x value last fs) body stays q = passed_on Returning ns body tt q.1
  returning_on ns (Returns actuals references) body stays q = absurd (cc stays)
  returning_on ns (Does fs) body stays q = passed_on Returning ns body tt q.1
  returning_on ns (Decides fs branches) body stays q = passed_on Returning ns body tt q.1
  returning_on ns (Turns condition fs) body stays q = passed_on Returning ns body tt q.1
  returning_on ns (Ranges x fs) body stays q = passed_on Returning ns body tt q.1
  returning_on ns Exits body stays q = passed_on Returning ns body tt q.1
  returning_on ns (Handles hs) body stays q = passed_on Returning ns body tt q.1
  returning_on ns (Evaluates right) body stays q = passed_on Returning ns body tt q.1
  returning_on ns (Computes x) body stays q = passed_on Returning ns body tt q.1
  returning_on ns (Continues links) body stays q = passed_on Returning ns body tt q.1
  returning_on ns (Applies operator) body stays q = passed_on Returning ns body tt q.1
  returning_on ns (AppliesAlone operator) body stays q = passed_on Returning ns body tt q.1
  returning_on ns (Stores x) body stays q = passed_on Returning ns body tt q.1
  returning_on ns (StoresIn v c) body stays q = passed_on Returning ns body tt q.1
  returning_on ns Writes body stays q = passed_on Returning ns body tt q.1
  returning_on [] (Declares x) body stays q = absurd q
  returning_on (n ∷ ns) (Declares x) body stays q = passed_on Returning (n ∷ ns) body tt q.1
  returning_on ns f body stays q = absurd q
