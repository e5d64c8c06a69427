-- Jumps inside the running body lead from typed states to typed states (5.7, 6.5, 11.4).

use Rattle.ada_typed.specs.Holding.{Cells, cells_of}
use Rattle.std.proofs.Common.{◌≡◌, ◌+◌, ◌≤◌, ◌&&◌, if◌then◌else◌, Bool, true, false, List, [], ◌∷◌, length, Option, Some, None, arith, refl, sym, subst}
use Rattle.std.specs.List.{list_all}
use Rattle.ada_program.specs.Form.{StmtsForm, no_stmts, a_stmt, HandlersForm, no_handlers, a_handler}
use Rattle.ada_program.specs.Handling.{some_takes, handler_of}
use Rattle.ada_program.specs.ProgramForm.{ProgramForm}
use Rattle.ada_program.specs.Freed.{statements_free_own, handlers_free_own}
use Rattle.ada_program.specs.WellFormed.{has_statement, choice_fits, callable_in}
use Rattle.ada_meaning.specs.declared.state.Value.{Value}
use Rattle.ada_meaning.specs.declared.state.Mode.{Mode}
use Rattle.ada_meaning.specs.declared.state.Mode.TheVariants.{Running, Raising, Exiting, Returning}
use Rattle.ada_program.specs.declared.program.Exception.{Exception}
use Rattle.ada_meaning.specs.Frame.{Frame, is_master, is_loop, is_return, Landing, passes_on, goes_behind, operation_landing, handler_landing, exception_landing, landing}
use Rattle.ada_meaning.specs.Frame as frame
use Rattle.ada_meaning.specs.Step.{landed, pass_next, end_of}
use Rattle.ada_meaning.specs.Named.{State, named}
use Rattle.ada_typed.proofs.OfKinds.{statements_are_of_kind, handlers_are_of_kind}
use Rattle.ada_typed.proofs.Evaluations.{EndsInside, Fine}
use Rattle.ada_typed.proofs.Operators.{and_left, and_right}
use Rattle.ada_typed.proofs.Control.{FitStmts, FitHandlers, AtReturn, AtLoop, handlers_in, AtHandlers, is_operation, NoOperation, FitsBehind, Fits, Lands, Catches, depth, Jumps, Goes, running, on_jump, catches, catches_behind}

module _ (p : ProgramForm) where
  -- Jumps pass what is left to do (5.7, 6.5, 11.4).
  master_deep : (f : Frame Value) (k : List (Frame Value)) → is_master f ≡ true → (1 + depth k ≤ depth (f ∷ k)) × (is_loop f ≡ false)
  master_deep (frame.Elaborates ds fs hs) k is = (omega arith, refl)
  master_deep frame.Closes k is = (omega arith, refl)
  master_deep (frame.Does fs) k is = absurd (cc)
  master_deep (frame.Decides fs branches) k is = absurd (cc)
  master_deep (frame.Repeats condition fs) k is = absurd (cc)
  master_deep (frame.Turns condition fs) k is = absurd (cc)
  master_deep (frame.Ranges x fs) k is = absurd (cc)
  master_deep (frame.Counts x value last fs) k is = absurd (cc)
  master_deep frame.Exits k is = absurd (cc)
  master_deep (frame.Handles hs) k is = absurd (cc)
  master_deep (frame.Leaves mode) k is = absurd (cc)
  master_deep (frame.Calls procedure b actuals) k is = absurd (cc)
  master_deep (frame.Returns actuals references) k is = absurd (cc)
  master_deep (frame.Evaluates right) k is = absurd (cc)
  master_deep (frame.Computes e) k is = absurd (cc)
  master_deep (frame.Follows cs) k is = absurd (cc)
  master_deep (frame.TestsNull equal) k is = absurd (cc)
  master_deep (frame.Refers q) k is = absurd (cc)
  master_deep (frame.RefersIn place t) k is = absurd (cc)
  master_deep (frame.Opens path) k is = absurd (cc)
  master_deep (frame.OpensIn c) k is = absurd (cc)
  master_deep (frame.Continues links) k is = absurd (cc)
  master_deep (frame.Applies operator) k is = absurd (cc)
  master_deep (frame.AppliesAlone operator) k is = absurd (cc)
  master_deep (frame.Fills items) k is = absurd (cc)
  master_deep (frame.Copies first t) k is = absurd (cc)
  master_deep (frame.Creates access count) k is = absurd (cc)
  master_deep (frame.Stores x) k is = absurd (cc)
  master_deep (frame.Targets c right) k is = absurd (cc)
  master_deep (frame.StoresIn object c) k is = absurd (cc)
  master_deep (frame.TargetsRecord first t items) k is = absurd (cc)
  master_deep (frame.StoresRecord object first count) k is = absurd (cc)
  master_deep (frame.Assigns t) k is = absurd (cc)
  master_deep (frame.Receives c) k is = absurd (cc)
  master_deep (frame.FreesIn access c) k is = absurd (cc)
  master_deep (frame.Declares x) k is = absurd (cc)
  master_deep (frame.DeclaresRecord x t) k is = absurd (cc)
  master_deep (frame.Treats v treatment tasks) k is = absurd (cc)
  master_deep (frame.Awaits v by done of part tasks) k is = absurd (cc)
  master_deep frame.Confines k is = absurd (cc)
  master_deep (frame.Resumes mode) k is = absurd (cc)
  master_deep frame.Writes k is = absurd (cc)
  master_deep (frame.Ends v) k is = absurd (cc)
  master_deep (frame.GivesBack v cause pool) k is = absurd (cc)
  master_deep (frame.Clears x) k is = absurd (cc)
  master_deep (frame.ClearsIn object c) k is = absurd (cc)

  -- Where an exception lands at a frame, by the handlers that are there.
  abbrev lands_by : Exception → Option HandlersForm → Landing Value
  lands_by e None = passes_on
  lands_by e (Some hs) = handler_landing (handler_of e hs)

  landing_comes : (e : Exception) (f : Frame Value) → is_operation f ≡ false → exception_landing e f ≡ lands_by e (handlers_in f)
  landing_comes e (frame.Elaborates ds fs hs) none = refl
  landing_comes e frame.Closes none = refl
  landing_comes e (frame.Does fs) none = refl
  landing_comes e (frame.Decides fs branches) none = refl
  landing_comes e (frame.Repeats condition fs) none = refl
  landing_comes e (frame.Turns condition fs) none = refl
  landing_comes e (frame.Ranges x fs) none = refl
  landing_comes e (frame.Counts x value last fs) none = refl
  landing_comes e frame.Exits none = refl
  landing_comes e (frame.Handles hs) none = refl
  landing_comes e (frame.Leaves mode) none = refl
  landing_comes e (frame.Calls procedure b actuals) none = refl
  landing_comes e (frame.Returns actuals references) none = refl
  landing_comes e (frame.Evaluates right) none = refl
  landing_comes e (frame.Computes x) none = refl
  landing_comes e (frame.Follows cs) none = refl
  landing_comes e (frame.TestsNull equal) none = refl
  landing_comes e (frame.Refers q) none = refl
  landing_comes e (frame.RefersIn place t) none = refl
  landing_comes e (frame.Opens path) none = refl
  landing_comes e (frame.OpensIn c) none = refl
  landing_comes e (frame.Continues links) none = refl
  landing_comes e (frame.Applies operator) none = refl
  landing_comes e (frame.AppliesAlone operator) none = refl
  landing_comes e (frame.Fills items) none = refl
  landing_comes e (frame.Copies first t) none = refl
  landing_comes e (frame.Creates access count) none = refl
  landing_comes e (frame.Stores x) none = refl
  landing_comes e (frame.Targets c right) none = refl
  landing_comes e (frame.StoresIn object c) none = refl
  landing_comes e (frame.TargetsRecord first t items) none = refl
  landing_comes e (frame.StoresRecord object first count) none = refl
  landing_comes e (frame.Assigns t) none = refl
  landing_comes e (frame.Receives c) none = refl
  landing_comes e (frame.FreesIn access c) none = refl
  landing_comes e (frame.Declares x) none = refl
  landing_comes e (frame.DeclaresRecord x t) none = refl
  landing_comes e (frame.Treats v treatment tasks) none = refl
  landing_comes e (frame.Awaits v by done of part tasks) none = absurd (cc)
  landing_comes e frame.Confines none = absurd (cc)
  landing_comes e (frame.Resumes mode) none = refl
  landing_comes e frame.Writes none = refl
  landing_comes e (frame.Ends v) none = refl
  landing_comes e (frame.GivesBack v cause pool) none = refl
  landing_comes e (frame.Clears x) none = refl
  landing_comes e (frame.ClearsIn object c) none = refl

  -- Any other jump passes a frame that is neither a loop nor the end of a call.
  passes_by : (f : Frame Value) → is_operation f ≡ false → operation_landing f ≡ passes_on
  passes_by (frame.Elaborates ds fs hs) none = refl
  passes_by frame.Closes none = refl
  passes_by (frame.Does fs) none = refl
  passes_by (frame.Decides fs branches) none = refl
  passes_by (frame.Repeats condition fs) none = refl
  passes_by (frame.Turns condition fs) none = refl
  passes_by (frame.Ranges x fs) none = refl
  passes_by (frame.Counts x value last fs) none = refl
  passes_by frame.Exits none = refl
  passes_by (frame.Handles hs) none = refl
  passes_by (frame.Leaves mode) none = refl
  passes_by (frame.Calls procedure b actuals) none = refl
  passes_by (frame.Returns actuals references) none = refl
  passes_by (frame.Evaluates right) none = refl
  passes_by (frame.Computes e) none = refl
  passes_by (frame.Follows cs) none = refl
  passes_by (frame.TestsNull equal) none = refl
  passes_by (frame.Refers q) none = refl
  passes_by (frame.RefersIn place t) none = refl
  passes_by (frame.Opens path) none = refl
  passes_by (frame.OpensIn c) none = refl
  passes_by (frame.Continues links) none = refl
  passes_by (frame.Applies operator) none = refl
  passes_by (frame.AppliesAlone operator) none = refl
  passes_by (frame.Fills items) none = refl
  passes_by (frame.Copies first t) none = refl
  passes_by (frame.Creates access count) none = refl
  passes_by (frame.Stores x) none = refl
  passes_by (frame.Targets c right) none = refl
  passes_by (frame.StoresIn object c) none = refl
  passes_by (frame.TargetsRecord first t items) none = refl
  passes_by (frame.StoresRecord object first count) none = refl
  passes_by (frame.Assigns t) none = refl
  passes_by (frame.Receives c) none = refl
  passes_by (frame.FreesIn access c) none = refl
  passes_by (frame.Declares x) none = refl
  passes_by (frame.DeclaresRecord x t) none = refl
  passes_by (frame.Treats v treatment tasks) none = refl
  passes_by (frame.Awaits v by done of part tasks) none = absurd (cc)
  passes_by frame.Confines none = absurd (cc)
  passes_by (frame.Resumes mode) none = refl
  passes_by frame.Writes none = refl
  passes_by (frame.Ends v) none = refl
  passes_by (frame.GivesBack v cause pool) none = refl
  passes_by (frame.Clears x) none = refl
  passes_by (frame.ClearsIn object c) none = refl

  -- What is left of the running body while a jump comes to a frame in it.
  abbrev GoesAt : Cells → Mode → Frame Value → List (Frame Value) → Type 0
  GoesAt cells mode f k =
      FitsBehind mode ⊥ (AtLoop (is_loop f) (Fits p cells [] k) (Lands p cells k)) (AtHandlers p (handlers_in f) (Lands p cells k) (Fits p cells [] k) (Catches p cells k))

  further : (return : Bool) (ends behind : Type 0) → return ≡ false → AtReturn return ends behind → behind
  further true ends behind none h = absurd (cc)
  further false ends behind none h = h

  -- No operation is called at a frame that a jump comes to.
  calls_none : (operation : Bool) (holds : Type 0) → NoOperation operation holds → operation ≡ false
  calls_none true holds h = absurd h
  calls_none false holds h = refl

  where_none : (operation : Bool) (holds : Type 0) → NoOperation operation holds → holds
  where_none true holds h = absurd h
  where_none false holds h = h

  abbrev CaughtAt : Cells → Frame Value → List (Frame Value) → Type 0
  CaughtAt cells f k = AtHandlers p (handlers_in f) (Lands p cells k) (Fits p cells [] k) (Catches p cells k)

  caught_at : (cells : Cells) (f : Frame Value) (k : List (Frame Value)) → is_return f ≡ false → Catches p cells (f ∷ k) → (is_operation f ≡ false) × CaughtAt cells f k
  caught_at cells f k none caught =
      let inside = further (is_return f) (Unit {0}) (NoOperation (is_operation f) (CaughtAt cells f k)) none caught in
      (calls_none (is_operation f) (CaughtAt cells f k) inside, where_none (is_operation f) (CaughtAt cells f k) inside)

  goes_at : (cells : Cells) (mode : Mode) (f : Frame Value) (k : List (Frame Value)) → is_return f ≡ false → Goes p cells mode (f ∷ k) → (is_operation f ≡ false) × GoesAt cells mode f k
  goes_at cells Running f k none goes = absurd goes
  goes_at cells (Raising e) f k none goes = caught_at cells f k none goes
  goes_at cells Exiting f k none goes =
      let caught = caught_at cells f k none goes.1 in
      (caught.0, (further (is_return f) ⊥ (AtLoop (is_loop f) (Fits p cells [] k) (Lands p cells k)) none goes.0, caught.1))
  goes_at cells Returning f k none goes = caught_at cells f k none goes

  -- A jump that is left waiting while a master is left.
  waits : (cells : Cells) (mode : Mode) (f : Frame Value) (k : List (Frame Value)) → is_loop f ≡ false → GoesAt cells mode f k → FitsBehind mode (Fits p cells [] k) (Lands p cells k) (Catches p cells k)
  waits cells Running f k no_loop goes = absurd goes
  waits cells (Raising e) f k no_loop goes = catches_behind p cells (handlers_in f) k goes
  waits cells Exiting f k no_loop goes = (subst (λ (loop : Bool). AtLoop loop (Fits p cells [] k) (Lands p cells k)) no_loop goes.0, catches_behind p cells (handlers_in f) k goes.1)
  waits cells Returning f k no_loop goes = catches_behind p cells (handlers_in f) k goes

  -- The first handler that takes an exception has a statement, and fits (11.2, 11.4).
  abbrev IsAble : Bool → StmtsForm → Type 0
  IsAble inside fs = (has_statement fs ≡ true) × FitStmts p inside fs

  able_here : (here inside : Bool) (gs : StmtsForm) (later : Option StmtsForm) (fs : StmtsForm) → IsAble inside gs → (later ≡ Some fs → IsAble inside fs) → (if here then Some gs else later) ≡ Some fs → IsAble inside fs
  able_here true inside gs later fs able others is = let same : gs ≡ fs = cc in subst (λ (ss : StmtsForm). IsAble inside ss) same able
  able_here false inside gs later fs able others is = others is

  handler_able : (inside : Bool) (hs : HandlersForm) (e : Exception) (fs : StmtsForm) → FitHandlers p inside hs → handler_of e hs ≡ Some fs → IsAble inside fs
  handler_able inside no_handlers e fs own is = absurd (cc)
  handler_able inside (a_handler choices gs hs) e fs own is =
      let chosen = list_all (choice_fits p.exceptions) choices in
      let some = has_statement gs in
      let inner = statements_are_of_kind p.types p.variables p.texts p.exceptions (callable_in p) inside gs in
      let others = handlers_are_of_kind p.types p.variables p.texts p.exceptions (callable_in p) inside hs in
      let former = and_left (chosen && some && inner) others own.0 in
      let by_own = statements_free_own p.types p.variables gs in
      let later = handlers_free_own p.types p.variables hs in
      able_here (some_takes e choices) inside gs (handler_of e hs) fs (and_right chosen some (and_left (chosen && some) inner former), (and_right (chosen && some) inner former, λ body. and_left by_own later (own.1 body)))
      (λ takes. handler_able inside hs e fs (and_right (chosen && some && inner) others own.0, λ body. and_right by_own later (own.1 body)) takes) is

  -- An exception comes to handlers.
  handler_fine : (o : Option StmtsForm) (e : Exception) (hs : HandlersForm) (s : State) → handler_of e hs ≡ o → AtHandlers p (Some hs) (Lands p (cells_of s.heap) s.control) (Fits p (cells_of s.heap) [] s.control) (Catches p (cells_of s.heap) s.control) → Jumps p (Raising e) s → Fine p (landed named (handler_landing o) (Raising e) s)
  handler_fine None e hs s is caught jumps = on_jump (Raising e) jumps (catches p (cells_of s.heap) s.control [] caught.3)
  handler_fine (Some no_stmts) e hs s is caught jumps = let own = handler_able caught.0 hs e no_stmts caught.1 is in absurd (cc)
  handler_fine (Some (a_stmt f fs)) e hs s is caught jumps =
      let own = handler_able caught.0 hs e (a_stmt f fs) caught.1 is in
      running [] (record { filled = jumps.filled; active = jumps.active; runs = refl; deep = jumps.deep }) (refl, caught.0, own.1, caught.2, caught.3)

  handlers_fine : (o : Option HandlersForm) (e : Exception) (s : State) → AtHandlers p o (Lands p (cells_of s.heap) s.control) (Fits p (cells_of s.heap) [] s.control) (Catches p (cells_of s.heap) s.control) → Jumps p (Raising e) s → Fine p (landed named (lands_by e o) (Raising e) s)
  handlers_fine None e s caught jumps = on_jump (Raising e) jumps caught
  handlers_fine (Some hs) e s caught jumps = handler_fine (handler_of e hs) e hs s refl caught jumps

  -- An exit comes to a loop.
  loop_fine : (loop : Bool) (s : State) → AtLoop loop (Fits p (cells_of s.heap) [] s.control) (Lands p (cells_of s.heap) s.control) → Catches p (cells_of s.heap) s.control → Jumps p Exiting s → Fine p (landed named (if loop then goes_behind else passes_on) Exiting s)
  loop_fine true s lands caught jumps = running [] (record { filled = jumps.filled; active = jumps.active; runs = refl; deep = jumps.deep }) lands
  loop_fine false s lands caught jumps = on_jump Exiting jumps (lands, caught)

  landed_fine : (mode : Mode) (f : Frame Value) (s : State) → is_return f ≡ false → is_operation f ≡ false → GoesAt (cells_of s.heap) mode f s.control → Jumps p mode s → Fine p (landed named (landing mode f) mode s)
  landed_fine Running f s none no_operation goes jumps = absurd goes
  landed_fine (Raising e) f s none no_operation goes jumps =
      subst (λ (where_to : Landing Value). Fine p (landed named where_to (Raising e) s)) (sym (landing_comes e f no_operation)) (handlers_fine (handlers_in f) e s goes jumps)
  landed_fine Exiting f s none no_operation goes jumps =
      subst (λ (where_to : Landing Value). Fine p (landed named (if is_loop f then goes_behind else where_to) Exiting s)) (sym (passes_by f no_operation))
      (loop_fine (is_loop f) s goes.0 (catches_behind p (cells_of s.heap) (handlers_in f) s.control goes.1) jumps)
  landed_fine Returning f s none no_operation goes jumps =
      subst (λ (return : Bool). Fine p (landed named (if return then goes_behind else operation_landing f) Returning s)) (sym none)
      (subst (λ (where_to : Landing Value). Fine p (landed named where_to Returning s)) (sym (passes_by f no_operation))
      (on_jump Returning jumps (catches_behind p (cells_of s.heap) (handlers_in f) s.control goes)))

  pass_fine : (master : Bool) (mode : Mode) (f : Frame Value) (s : State) → is_return f ≡ false → is_operation f ≡ false → is_master f ≡ master → GoesAt (cells_of s.heap) mode f s.control → Jumps p mode s → depth (f ∷ s.control) ≤ length s.masters → Fine p (pass_next named master (landing mode f) mode s)
  pass_fine true mode f s none no_operation is goes jumps deep =
      let own = master_deep f s.control is in
      running [] (record { filled = jumps.filled; active = jumps.active; runs = refl; deep = omega (arith, deep, own.0) }) (waits (cells_of s.heap) mode f s.control own.1 goes)
  pass_fine false mode f s none no_operation is goes jumps deep = landed_fine mode f s none no_operation goes jumps

  -- A jump comes to a frame of the running body.
  pub passing_fine : (mode : Mode) (f : Frame Value) (s : State) → is_return f ≡ false → Goes p (cells_of s.heap) mode (f ∷ s.control) → Jumps p mode s → depth (f ∷ s.control) ≤ length s.masters → Fine p (pass_next named (is_master f) (landing mode f) mode s)
  passing_fine mode f s none goes jumps deep =
      let here = goes_at (cells_of s.heap) mode f s.control none goes in
      pass_fine (is_master f) mode f s none here.0 refl here.1 jumps deep

-- Where nothing is left to pass, the run ends: an exit always has a loop.
pub ends_fine : (p : ProgramForm) (cells : Cells) (mode : Mode) → Goes p cells mode [] → EndsInside (end_of mode)
ends_fine p cells Running goes = absurd goes
ends_fine p cells (Raising e) goes = tt
ends_fine p cells Exiting goes = absurd goes.0
ends_fine p cells Returning goes = tt
