-- Jumps in a body that shuns some access types, and each of its steps.

use Rattle.std.proofs.Common.{◌≡◌, ℕ, Bool, true, false, List, [], ◌∷◌, map, Some, refl, sym, ◌⊎◌, inl, inr, subst}
use Rattle.std.specs.Prelude.{if◌then◌else◌}
use Rattle.std.proofs.lemmas.Bool.{and_parts}
use Rattle.ada_program.specs.declared.program.Exception.{Exception}
use Rattle.ada_program.specs.declared.program.TypeDefinition.{TypeDefinition}
use Rattle.ada_program.specs.Form.{ActualForm, HandlersForm, no_handlers, a_handler, no_stmts, a_stmt}
use Rattle.ada_program.specs.Handling.{some_takes, handler_of}
use Rattle.ada_program.specs.ProgramForm.{TypeForm, VariableForm, type_form}
use Rattle.ada_parts.specs.Part.{Part}
use Rattle.ada_parts.specs.Task.{Task}
use Rattle.ada_meaning.specs.declared.event.Birth.{Birth}
use Rattle.ada_meaning.specs.declared.event.Birth.TheVariants.{Creation, Copy, Adjustment}
use Rattle.ada_meaning.specs.declared.state.Mode.{Mode}
use Rattle.ada_meaning.specs.declared.state.Mode.TheVariants.{Running, Raising, Exiting, Returning}
use Rattle.ada_meaning.specs.declared.state.Value.{Value}
use Rattle.ada_meaning.specs.Frame.{Frame, begins, ends, is_loop, is_return, is_master, Landing, passes_on, goes_behind, goes_in, breaks_off, escapes, operation_landing, handler_landing, exception_landing, exit_landing, return_landing, landing}
use Rattle.ada_meaning.specs.Frame as frame
use Rattle.ada_meaning.specs.State.{Activation, Master}
use Rattle.ada_meaning.specs.Step.{operands, broken_next, broken_off, landed, unwound, pass_next}
use Rattle.ada_meaning.specs.Named.{Object, State, named, look, next}
use Rattle.ada_untouched.specs.Untouched.{IsInSight}
use Rattle.ada_reaching.specs.Apart.{AreBegunIn}
use Rattle.ada_reaching.specs.Reaching.{FrameShuns, InMasters, IsAdjusting, IsLast, MayJump, begins_anew, is_leaving, references_at}
use Rattle.ada_reaching.specs.Forms.{statements_shun, handlers_shun}
use Rattle.ada_reaching.specs.Law.{AreApart, FirstHousesIts, AllGoOn}
use Rattle.ada_reaching.proofs.Going.{World, variables_in, Runs, LeftIn, Left, On, Goes, OperandsSeek, may_jump, reaches, runs_on, stays}
use Rattle.ada_reaching.proofs.Masters.{declares_out, in_own, is_own, own_in}
use Rattle.ada_reaching.proofs.Paths.{Sound}
use Rattle.ada_reaching.proofs.Calls.{AreParts, left_goes, returned_goes}
use Rattle.ada_reaching.proofs.Frames.{RefersTwice, newest_seeks, frame_goes}
use Rattle.ada_reaching.proofs.Rooted.{FrameIsRooted}
use Rattle.ada_reaching.proofs.Treats.{undone_goes}

-- A jump is on its way in this mode.
abbrev pub IsJump : Mode → Type 0
IsJump Running = ⊥
IsJump (Raising e) = Unit {0}
IsJump Exiting = Unit {0}
IsJump Returning = Unit {0}

-- The path of the first frame leads somewhere, where no jump is on its way.
abbrev pub FirstIsRooted : List TypeForm → List VariableForm → Mode → List (Frame Value) → Type 0
FirstIsRooted types variables Running (f ∷ k) = FrameIsRooted types variables f
FirstIsRooted types variables m k = Unit {0}

module _ (w : World) where
  -- A frame of the body that runs shuns the types.
  abbrev OneShuns : Frame Value → Type 0
  OneShuns f = FrameShuns w.p.types w.shuns w.apart w.p.bodies w.ghosts (variables_in w) f

  -- A jump lands in statements that shun the types, if it lands in any, or comes out of an operation that begins a part of what may be allocated, or
  -- out of an Adjust (7.6).
  abbrev pub LandsShunning : Landing Value → Type 0
  LandsShunning (goes_in fs) = statements_shun w.p.types w.shuns w.apart (variables_in w) fs ≡ true
  LandsShunning (breaks_off v by done) =
      IsInSight w.ghosts v × (((access : ℕ) × (w.apart.starts access ≡ true) × AreBegunIn w.apart.definitions access done) ⊎ IsAdjusting by)
  LandsShunning l = Unit {0}

  -- A jump comes out of such an operation alone.
  waiting_lands : (v : Value) (by : Birth) (done : List Part) (of part : ℕ) (tasks : List Task) → OneShuns (frame.Awaits v by done of part tasks) → LandsShunning (breaks_off v by done)
  waiting_lands v by done of part tasks (sight, inl starting) = (sight, inl (starting.starts.access, starting.starts.may, starting.starts.begun))
  waiting_lands v by done of part tasks (sight, inr adjusting) = (sight, inr adjusting.0)

  operation_lands : (f : Frame Value) → OneShuns f → LandsShunning (operation_landing f)
  operation_lands (frame.Awaits v by done of part tasks) shun = waiting_lands v by done of part tasks shun
  operation_lands f shun = tt

  -- A jump lands behind a frame, or where it would land else.
  tested_lands : (t : Bool) (l : Landing Value) → LandsShunning l → LandsShunning (if t then goes_behind else l)
  tested_lands true l shun = tt
  tested_lands false l shun = shun

  -- An exception lands in statements of a handler, or in none.
  handler_lands :
      (e : Exception) (hs : HandlersForm) → handlers_shun w.p.types w.shuns w.apart (variables_in w) hs ≡ true
      → LandsShunning (handler_landing (handler_of e hs))
  handler_lands e no_handlers shun = tt
  handler_lands e (a_handler choices fs hs) shun =
      let two = and_parts (statements_shun w.p.types w.shuns w.apart (variables_in w) fs) (handlers_shun w.p.types w.shuns w.apart (variables_in w) hs) shun in
      by_test (some_takes e choices) two.0 (handler_lands e hs two.1)
    where
      by_test :
          (takes : Bool) → statements_shun w.p.types w.shuns w.apart (variables_in w) fs ≡ true → LandsShunning (handler_landing (handler_of e hs))
          → LandsShunning (handler_landing (if takes then Some fs else handler_of e hs))
      by_test true one more = one
      by_test false one more = more

  -- An exception lands in statements that shun the types, if it lands in any.
  exception_lands : (e : Exception) (f : Frame Value) → OneShuns f → LandsShunning (exception_landing e f)
  exception_lands e (frame.Handles hs) shun = handler_lands e hs shun
  exception_lands e (frame.Awaits v by done of part tasks) shun = waiting_lands v by done of part tasks shun
  exception_lands e f shun = tt

  -- So it is with a jump in any mode.
  pub landing_shuns : (m : Mode) (f : Frame Value) → OneShuns f → LandsShunning (landing m f)
  landing_shuns Running f shun = tt
  landing_shuns (Raising e) f shun = exception_lands e f shun
  landing_shuns Exiting f shun = tested_lands (is_loop f) (operation_landing f) (operation_lands f shun)
  landing_shuns Returning f shun = tested_lands (is_return f) (operation_landing f) (operation_lands f shun)

  -- Where a jump is on its way, nothing is sought.
  jump_seeks : (heap : List Object) (m : Mode) (k : List (Frame Value)) (vs : List Value) → IsJump m → OperandsSeek w heap m k vs
  jump_seeks heap Running k vs is = absurd is
  jump_seeks heap (Raising e) k vs is = tt
  jump_seeks heap Exiting k vs is = tt
  jump_seeks heap Returning k vs is = tt

  -- The bodies go on as an exception comes out of an operation: out of an Initialize (7.6.1), since that of an Adjust ends the run.
  broken_goes :
      (e : Exception) (v : Value) (by : Birth) (done : List Part) (s : State) → LandsShunning (breaks_off v by done)
      → Goes w s (broken_next named e v by done s)
  broken_goes e v Creation done s (sight, inl starting) r h anew = undone_goes w e v starting.0 done (look s.heap v) s sight starting.1 starting.2 r h anew
  broken_goes e v Creation done s (sight, inr adjusting) r h anew = absurd adjusting
  broken_goes e v Copy done s shuns r h anew = tt
  broken_goes e v (Adjustment number) done s shuns r h anew = tt

  -- So they do as a jump does: no other leaves an operation so.
  broken_off_goes :
      (m : Mode) (v : Value) (by : Birth) (done : List Part) (s : State) → LandsShunning (breaks_off v by done) → Goes w s (broken_off named m v by done s)
  broken_off_goes Running v by done s shuns r h anew = tt
  broken_off_goes (Raising e) v by done s shuns r h anew = broken_goes e v by done s shuns r h anew
  broken_off_goes Exiting v by done s shuns r h anew = tt
  broken_off_goes Returning v by done s shuns r h anew = tt

  -- The bodies go on as a jump lands.
  landed_goes : (l : Landing Value) (m : Mode) (s : State) → LandsShunning l → Goes w s (landed named l m s)
  landed_goes passes_on m s shuns r h anew = stays w s r h anew
  landed_goes goes_behind m s shuns r h anew = stays w (record s { mode = Running }) r h anew
  landed_goes (goes_in no_stmts) m s shuns r h anew = tt
  landed_goes (goes_in (a_stmt f fs)) m s shuns r h anew =
      stays w (record s { control = frame.Does (a_stmt f fs) ∷ s.control; mode = Running }) r (shuns, anew, h) refl
  landed_goes (breaks_off v by done) m s shuns r h anew = broken_off_goes m v by done s shuns r h anew
  landed_goes escapes m s shuns r h anew = tt

  -- Where a jump is on its way, no master is left first.
  jump_stands : (m : Mode) (k : List (Frame Value)) → IsJump m → MayJump m k → is_leaving k ≡ false
  jump_stands Running k is jump = absurd is
  jump_stands (Raising e) k is jump = jump
  jump_stands Exiting k is jump = jump
  jump_stands Returning k is jump = jump

  -- A master stops a jump: it is left first.
  stops_go :
      (f : Frame Value) (m : Mode) (s : State) → is_own f ≡ true → Runs w s → begins_anew s.control ≡ true
      → InMasters w.apart w.lower f w.upper (λ (ns : List Master). LeftIn w ns s.control)
      → On w (record s { control = frame.Leaves m ∷ s.control; mode = Running })
  stops_go f m s is r anew h =
      let own = in_own w.apart w.lower f w.upper (λ (ns : List Master). LeftIn w ns s.control) is h in
      runs_on w (record s { control = frame.Leaves m ∷ s.control; mode = Running }) refl r
      (tt, anew, own_in w.apart w.lower (frame.Leaves m) w.upper (λ (ns : List Master). LeftIn w ns s.control) refl own) refl

  -- The bodies go on as a jump passes what is left to do.
  passing : (s : State) → IsJump s.mode → Runs w s → Left w s.control → is_leaving s.control ≡ false → On w s
  passing s is r h stands = reaches w s r h (may_jump s.mode s.control stands) (jump_seeks s.heap s.mode s.control (operands s) is)

  -- A jump lands there in each mode.
  lands_so :
      (m : Mode) (f : Frame Value) (l : Landing Value) → IsJump m → ((e : Exception) → exception_landing e f ≡ l) → exit_landing f ≡ l → return_landing f ≡ l
      → landing m f ≡ l
  lands_so Running f l is raises exits returns = absurd is
  lands_so (Raising e) f l is raises exits returns = raises e
  lands_so Exiting f l is raises exits returns = exits
  lands_so Returning f l is raises exits returns = returns

  -- The bodies go on as a jump passes a frame at which none lands.
  passes_go :
      (l : Landing Value) (m : Mode) (s : State) → l ≡ passes_on → IsJump s.mode → Runs w s → Left w s.control → is_leaving s.control ≡ false
      → AllGoOn (On w) (landed named l m s)
  passes_go l m s lands is r h stands =
      subst (λ (there : Landing Value). AllGoOn (On w) (landed named there m s)) (sym lands) (passing s is r h stands)

  -- The run ends as a jump comes out of a Finalize.
  escapes_go : (l : Landing Value) (m : Mode) (s : State) → l ≡ escapes → AllGoOn (On w) (landed named l m s)
  escapes_go l m s lands = subst (λ (there : Landing Value). AllGoOn (On w) (landed named there m s)) (sym lands) tt

  -- The bodies go on as a jump comes to the end of a call that is not the outermost one (6.5).
  ends_go :
      (m : Mode) (actuals : List ActualForm) (references : List Value) (s : State) → IsJump m
      → (IsLast w.behind (frame.Returns actuals references) s.control → ⊥) → AreParts references → Left w (frame.Returns actuals references ∷ s.control)
      → Runs w s
      → AllGoOn (On w) (pass_next named false (landing m (frame.Returns actuals references)) m (unwound named m (frame.Returns actuals references) s))
  ends_go m actuals references s is on parts (inl (last, none)) r = absurd (on last)
  ends_go Running actuals references s is on parts (inr inner) r = absurd is
  ends_go (Raising e) actuals references s is on parts (inr inner) r = left_goes w s (frame.Returns actuals references) r inner s.mode
  ends_go Exiting actuals references s is on parts (inr inner) r = left_goes w s (frame.Returns actuals references) r inner s.mode
  ends_go Returning actuals references s is on parts (inr inner) r =
      returned_goes w s (frame.Returns actuals references) r inner Running actuals references refl parts inner.references

  -- The bodies go on as a jump comes to a frame.
  jump_goes :
      (m : Mode) (f : Frame Value) (s : State) → IsJump m → IsJump s.mode → MayJump m (f ∷ s.control) → (IsLast w.behind f s.control → ⊥)
      → AreParts (references_at f) → Left w (f ∷ s.control) → Runs w s
      → AllGoOn (On w) (pass_next named (is_master f) (landing m f) m (unwound named m f s))
  jump_goes m (frame.Returns actuals references) s own is jump on parts h r = ends_go m actuals references s own on parts h r
  jump_goes m (frame.Elaborates ds fs hs) s own is jump on parts h r = stops_go (frame.Elaborates ds fs hs) m s refl r h.1 h.2
  jump_goes m frame.Closes s own is jump on parts h r = stops_go frame.Closes m s refl r h.1 h.2
  jump_goes m (frame.Leaves mode) s own is jump on parts h r =
      let never : true ≡ false = jump_stands m (frame.Leaves mode ∷ s.control) own jump in absurd (cc)
  jump_goes m (frame.Follows cs) s own is jump on parts h r =
      passes_go (landing m (frame.Follows cs)) m s (lands_so m (frame.Follows cs) passes_on own (λ e. refl) refl refl) is r h.2 h.1
  jump_goes m (frame.Treats v (ends cause) tasks) s own is jump on parts h r =
      let f : Frame Value = frame.Treats v (ends cause) tasks in
      passes_go (landing m f) m s (lands_so m f passes_on own (λ e. refl) refl refl) is r h.2 (jump_stands m (f ∷ s.control) own jump)
  jump_goes m (frame.Treats v (begins by done) tasks) s own is jump on parts h r =
      let f : Frame Value = frame.Treats v (begins by done) tasks in
      passes_go (landing m f) m s (lands_so m f passes_on own (λ e. refl) refl refl) is r h.2 (jump_stands m (f ∷ s.control) own jump)
  jump_goes m (frame.Ends v) s own is jump on parts h r =
      let f : Frame Value = frame.Ends v in
      passes_go (landing m f) m s (lands_so m f passes_on own (λ e. refl) refl refl) is r h.2 (jump_stands m (f ∷ s.control) own jump)
  jump_goes m (frame.GivesBack v cause pool) s own is jump on parts h r =
      let f : Frame Value = frame.GivesBack v cause pool in
      passes_go (landing m f) m s (lands_so m f passes_on own (λ e. refl) refl refl) is r h.2 (jump_stands m (f ∷ s.control) own jump)
  jump_goes m frame.Confines s own is jump on parts h r =
      escapes_go (landing m frame.Confines) m s (lands_so m frame.Confines escapes own (λ e. refl) refl refl)
  jump_goes m (frame.Declares x) s own is jump on parts h r =
      landed_goes (landing m (frame.Declares x)) m s (landing_shuns m (frame.Declares x) h.0) r
      (declares_out w.apart w.lower (frame.Declares x) w.upper (λ (ns : List Master). LeftIn w ns s.control) refl h.2) h.1
  jump_goes m (frame.DeclaresRecord x t) s own is jump on parts h r =
      landed_goes (landing m (frame.DeclaresRecord x t)) m s (landing_shuns m (frame.DeclaresRecord x t) h.0) r
      (declares_out w.apart w.lower (frame.DeclaresRecord x t) w.upper (λ (ns : List Master). LeftIn w ns s.control) refl h.2) h.1
  jump_goes m f s own is jump on parts h r = landed_goes (landing m f) m s (landing_shuns m f h.0) r h.2 h.1

  -- The first frame is not the end of the outermost body.
  abbrev pub GoesFurther : List (Frame Value) → Type 0
  GoesFurther [] = Unit {0}
  GoesFurther (f ∷ k) = IsLast w.behind f k → ⊥

  -- What refers to components where the first frame ends a call.
  abbrev pub FirstRefers : List (Frame Value) → Type 0
  FirstRefers [] = Unit {0}
  FirstRefers (f ∷ k) = AreParts (references_at f)

  -- What two operands refer to, where the first frame assigns a record with controlled parts, and no jump is on its way.
  abbrev pub FirstAssigns : Mode → List (Frame Value) → List (Activation Value) → Type 0
  FirstAssigns Running (f ∷ k) acts = RefersTwice f acts
  FirstAssigns m k acts = Unit {0}

  -- The bodies go on by a step in any mode.
  pub step_goes :
      (tds : List TypeDefinition) → map type_form tds ≡ w.p.types → AreApart w.p tds w.shuns w.apart → (m : Mode) (k : List (Frame Value)) (s : State) → Sound w s
      → GoesFurther k → FirstHousesIts k s.heap s.masters → FirstIsRooted w.p.types (variables_in w) m k → FirstRefers k → FirstAssigns m k s.activations → Runs w s → Left w k
      → MayJump m k → OperandsSeek w s.heap m k (operands s) → AllGoOn (On w) (next tds w.p.bodies (record s { mode = m; control = k }))
  unfolding next
  step_goes tds known are_apart Running [] s sound on houses root parts pair r h jump seeks = tt
  step_goes tds known are_apart Running (f ∷ k) s sound on houses root parts pair r h jump seeks =
      frame_goes w tds known are_apart f (record s { mode = Running; control = k }) sound on parts pair h houses root
      (newest_seeks w s.heap (f ∷ k) (operands s) seeks) refl r
  step_goes tds known are_apart (Raising e) [] s sound on houses root parts pair r h jump seeks = tt
  step_goes tds known are_apart (Raising e) (f ∷ k) s sound on houses root parts pair r h jump seeks =
      jump_goes (Raising e) f (record s { mode = Raising e; control = k }) tt tt jump on parts h r
  step_goes tds known are_apart Exiting [] s sound on houses root parts pair r h jump seeks = tt
  step_goes tds known are_apart Exiting (f ∷ k) s sound on houses root parts pair r h jump seeks =
      jump_goes Exiting f (record s { mode = Exiting; control = k }) tt tt jump on parts h r
  step_goes tds known are_apart Returning [] s sound on houses root parts pair r h jump seeks = tt
  step_goes tds known are_apart Returning (f ∷ k) s sound on houses root parts pair r h jump seeks =
      jump_goes Returning f (record s { mode = Returning; control = k }) tt tt jump on parts h r
