-- A jump passes the frames of a body as it passes those that are seen.

use Rattle.std.proofs.Common.{◌≡◌, ℕ, Bool, true, false, List, ◌∷◌, Option, Some, None, refl, sym, subst}
use Rattle.std.specs.Prelude.{if◌then◌else◌}
use Rattle.ada_program.specs.declared.program.Exception.{Exception}
use Rattle.ada_program.specs.declared.program.TypeDefinition.{TypeDefinition}
use Rattle.ada_program.specs.Form.{StmtsForm, no_stmts, a_stmt, HandlersForm, no_handlers, a_handler}
use Rattle.ada_program.specs.Handling.{some_takes, handler_of}
use Rattle.ada_program.specs.ProgramForm.{BodyForm}
use Rattle.ada_meaning.specs.declared.state.Mode.{Mode}
use Rattle.ada_meaning.specs.declared.state.Mode.TheVariants.{Running, Raising, Exiting, Returning}
use Rattle.ada_meaning.specs.declared.state.Value.{Value}
use Rattle.ada_meaning.specs.Event.{Quiet}
use Rattle.ada_meaning.specs.Frame.{Frame, is_master, Landing, passes_on, goes_behind, handler_landing, exit_landing, return_landing, exception_landing, landing}
use Rattle.ada_meaning.specs.Frame as frame
use Rattle.ada_meaning.specs.State.{Activation}
use Rattle.ada_meaning.specs.Step.{unwound, landed, pass_next}
use Rattle.ada_meaning.specs.Named.{State, Next, named}
use Rattle.ada_tracked.specs.Forms.{seen_stmts, seen_handlers}
use Rattle.ada_tracked.specs.Frames.{View, number_in, stored_as, cleared_as, seen_frame}
use Rattle.ada_tracked.specs.Simple.{FrameIsSimple}
use Rattle.ada_tracked.specs.Seen.{awaits_holder, seen_state}
use Rattle.ada_tracked.specs.Law.{Shown}
use Rattle.ada_tracked.proofs.Found.{idly}

-- A state in which a jump is on its way.
abbrev pub jumped : Activation Value → List (Activation Value) → State → State
jumped a rest s = record s { activations = a ∷ rest }

-- The statements of a handler, as they are judged.
abbrev seen_handler : View → Option StmtsForm → Option StmtsForm
seen_handler w None = None
seen_handler w (Some fs) = Some (seen_stmts w.tracks fs)

handler_by : (w : View) (takes : Bool) (fs : StmtsForm) (found more : Option StmtsForm) → more ≡ seen_handler w found → (if takes then Some (seen_stmts w.tracks fs) else more) ≡ seen_handler w (if takes then Some fs else found)
handler_by w true fs found more is = refl
handler_by w false fs found more is = is

handler_seen : (w : View) (e : Exception) (hs : HandlersForm) → handler_of e (seen_handlers w.tracks hs) ≡ seen_handler w (handler_of e hs)
handler_seen w e no_handlers = refl
handler_seen w e (a_handler choices fs hs) =
    handler_by w (some_takes e choices) fs (handler_of e hs) (handler_of e (seen_handlers w.tracks hs)) (handler_seen w e hs)

-- A frame that no jump stops at.
pub in_each_mode : (f : Frame Value) → ((e : Exception) → exception_landing e f ≡ passes_on) → exit_landing f ≡ passes_on → return_landing f ≡ passes_on → (m : Mode) → landing m f ≡ passes_on
in_each_mode f raising exiting returning Running = refl
in_each_mode f raising exiting returning (Raising e) = raising e
in_each_mode f raising exiting returning Exiting = exiting
in_each_mode f raising exiting returning Returning = returning

-- What a jump does next that comes to this frame.
abbrev pub jump_at : Mode → Frame Value → State → Next
jump_at m f s = pass_next named (is_master f) (landing m f) m (unwound named m f s)

module _ (types : List TypeDefinition) (bodies : List BodyForm) (w : View) where
  -- Both pass it.
  passing : (t : State) (m : Mode) (f g : Frame Value) (a : Activation Value) (rest : List (Activation Value)) (s : State) → is_master f ≡ false → is_master g ≡ false → landing m f ≡ passes_on → landing m g ≡ passes_on → awaits_holder s.control ≡ false → Shown types bodies w t (pass_next named (is_master f) (landing m f) m (jumped a rest s)) (pass_next named (is_master g) (landing m g) m (seen_state w (jumped a rest s)))
  passing t m f g a rest s one two three four calm =
      subst (λ (b : Bool). Shown types bodies w t (pass_next named b (landing m f) m (jumped a rest s)) (pass_next named (is_master g) (landing m g) m (seen_state w (jumped a rest s)))) (sym one)
      (subst (λ (b : Bool). Shown types bodies w t (landed named (landing m f) m (jumped a rest s)) (pass_next named b (landing m g) m (seen_state w (jumped a rest s)))) (sym two)
      (subst (λ (l : Landing Value). Shown types bodies w t (landed named l m (jumped a rest s)) (landed named (landing m g) m (seen_state w (jumped a rest s)))) (sym three)
      (subst (λ (l : Landing Value). Shown types bodies w t (landed named passes_on m (jumped a rest s)) (landed named l m (seen_state w (jumped a rest s)))) (sym four)
      (idly types bodies w t Quiet (jumped a rest s) calm))))

  passed : (t : State) (m : Mode) (f g : Frame Value) (a : Activation Value) (rest : List (Activation Value)) (s : State) → is_master f ≡ false → is_master g ≡ false → ((e : Exception) → exception_landing e f ≡ passes_on) → exit_landing f ≡ passes_on → return_landing f ≡ passes_on → ((e : Exception) → exception_landing e g ≡ passes_on) → exit_landing g ≡ passes_on → return_landing g ≡ passes_on → awaits_holder s.control ≡ false → Shown types bodies w t (pass_next named (is_master f) (landing m f) m (jumped a rest s)) (pass_next named (is_master g) (landing m g) m (seen_state w (jumped a rest s)))
  passed t m f g a rest s one two three four five six seven eight calm =
      passing t m f g a rest s one two (in_each_mode f three four five m) (in_each_mode g six seven eight m) calm

  -- A loop, where an exit lands behind it.
  loop_passed : (t : State) (m : Mode) (f g : Frame Value) (a : Activation Value) (rest : List (Activation Value)) (s : State) → is_master f ≡ false → is_master g ≡ false → ((e : Exception) → exception_landing e f ≡ passes_on) → exit_landing f ≡ goes_behind → return_landing f ≡ passes_on → ((e : Exception) → exception_landing e g ≡ passes_on) → exit_landing g ≡ goes_behind → return_landing g ≡ passes_on → awaits_holder s.control ≡ false → Shown types bodies w t (pass_next named (is_master f) (landing m f) m (jumped a rest s)) (pass_next named (is_master g) (landing m g) m (seen_state w (jumped a rest s)))
  loop_passed t Running f g a rest s one two three four five six seven eight calm = passing t Running f g a rest s one two refl refl calm
  loop_passed t (Raising e) f g a rest s one two three four five six seven eight calm = passing t (Raising e) f g a rest s one two (three e) (six e) calm
  loop_passed t Exiting f g a rest s one two three four five six seven eight calm =
      subst (λ (b : Bool). Shown types bodies w t (pass_next named b (exit_landing f) Exiting (jumped a rest s)) (pass_next named (is_master g) (exit_landing g) Exiting (seen_state w (jumped a rest s)))) (sym one)
      (subst (λ (b : Bool). Shown types bodies w t (landed named (exit_landing f) Exiting (jumped a rest s)) (pass_next named b (exit_landing g) Exiting (seen_state w (jumped a rest s)))) (sym two)
      (subst (λ (l : Landing Value). Shown types bodies w t (landed named l Exiting (jumped a rest s)) (landed named (exit_landing g) Exiting (seen_state w (jumped a rest s)))) (sym four)
      (subst (λ (l : Landing Value). Shown types bodies w t (landed named goes_behind Exiting (jumped a rest s)) (landed named l Exiting (seen_state w (jumped a rest s)))) (sym seven)
      (idly types bodies w t Quiet (record (jumped a rest s) { mode = Running }) calm))))
  loop_passed t Returning f g a rest s one two three four five six seven eight calm = passing t Returning f g a rest s one two five eight calm

  -- A jump comes to handlers: an exception goes on in one that takes it.
  handled : (t : State) (e : Exception) (found : Option StmtsForm) (a : Activation Value) (rest : List (Activation Value)) (s : State) → awaits_holder s.control ≡ false → Shown types bodies w t (landed named (handler_landing found) (Raising e) (jumped a rest s)) (landed named (handler_landing (seen_handler w found)) (Raising e) (seen_state w (jumped a rest s)))
  handled t e None a rest s calm = idly types bodies w t Quiet (jumped a rest s) calm
  handled t e (Some no_stmts) a rest s calm = refl
  handled t e (Some (a_stmt f fs)) a rest s calm =
      idly types bodies w t Quiet (record (jumped a rest s) { control = frame.Does (a_stmt f fs) ∷ s.control; mode = Running }) refl

  handlers_passed : (t : State) (m : Mode) (hs : HandlersForm) (a : Activation Value) (rest : List (Activation Value)) (s : State) → awaits_holder s.control ≡ false → Shown types bodies w t (landed named (landing m (frame.Handles hs)) m (jumped a rest s)) (landed named (landing m (frame.Handles (seen_handlers w.tracks hs))) m (seen_state w (jumped a rest s)))
  handlers_passed t Running hs a rest s calm = idly types bodies w t Quiet (jumped a rest s) calm
  handlers_passed t (Raising e) hs a rest s calm =
      subst (λ (found : Option StmtsForm). Shown types bodies w t (landed named (handler_landing (handler_of e hs)) (Raising e) (jumped a rest s)) (landed named (handler_landing found) (Raising e) (seen_state w (jumped a rest s))))
      (sym (handler_seen w e hs)) (handled t e (handler_of e hs) a rest s calm)
  handlers_passed t Exiting hs a rest s calm = idly types bodies w t Quiet (jumped a rest s) calm
  handlers_passed t Returning hs a rest s calm = idly types bodies w t Quiet (jumped a rest s) calm

  -- A master is left first.
  master_passed : (t : State) (m : Mode) (a : Activation Value) (rest : List (Activation Value)) (s : State) → (l j : Landing Value) → Shown types bodies w t (pass_next named true l m (jumped a rest s)) (pass_next named true j m (seen_state w (jumped a rest s)))
  master_passed t m a rest s l j =
      idly types bodies w t Quiet (record (jumped a rest s) { control = frame.Leaves m ∷ s.control; mode = Running }) refl

  stored_passed : (t : State) (m : Mode) (number : Option ℕ) (v : Value) (c : ℕ) (a : Activation Value) (rest : List (Activation Value)) (s : State) → awaits_holder s.control ≡ false → Shown types bodies w t (jump_at m (frame.StoresIn v c) (jumped a rest s)) (jump_at m (stored_as number v c) (seen_state w (jumped a rest s)))
  stored_passed t m None v c a rest s calm = passed t m (frame.StoresIn v c) (frame.StoresIn v c) a rest s refl refl (λ e. refl) refl refl (λ e. refl) refl refl calm
  stored_passed t m (Some x) v c a rest s calm = passed t m (frame.StoresIn v c) (frame.Stores x) a rest s refl refl (λ e. refl) refl refl (λ e. refl) refl refl calm

  cleared_passed : (t : State) (m : Mode) (number : Option ℕ) (v : Value) (c : ℕ) (a : Activation Value) (rest : List (Activation Value)) (s : State) → awaits_holder s.control ≡ false → Shown types bodies w t (jump_at m (frame.ClearsIn v c) (jumped a rest s)) (jump_at m (cleared_as number v c) (seen_state w (jumped a rest s)))
  cleared_passed t m None v c a rest s calm = passed t m (frame.ClearsIn v c) (frame.ClearsIn v c) a rest s refl refl (λ e. refl) refl refl (λ e. refl) refl refl calm
  cleared_passed t m (Some x) v c a rest s calm = passed t m (frame.ClearsIn v c) (frame.Clears x) a rest s refl refl (λ e. refl) refl refl (λ e. refl) refl refl calm

  pub jump_shown : (t : State) (m : Mode) (f : Frame Value) (a : Activation Value) (rest : List (Activation Value)) (s : State) → FrameIsSimple w.tracks.first f → awaits_holder s.control ≡ false → Shown types bodies w t (jump_at m f (jumped a rest s)) (jump_at m (seen_frame w f) (seen_state w (jumped a rest s)))
  jump_shown t m (frame.Elaborates ds fs hs) a rest s simple calm = master_passed t m a rest s (landing m (frame.Elaborates ds fs hs)) (landing m (seen_frame w (frame.Elaborates ds fs hs)))
  jump_shown t m (frame.Does fs) a rest s simple calm = passed t m (frame.Does fs) (seen_frame w (frame.Does fs)) a rest s refl refl (λ e. refl) refl refl (λ e. refl) refl refl calm
  jump_shown t m (frame.Decides fs branches) a rest s simple calm = passed t m (frame.Decides fs branches) (seen_frame w (frame.Decides fs branches)) a rest s refl refl (λ e. refl) refl refl (λ e. refl) refl refl calm
  jump_shown t m (frame.Repeats condition fs) a rest s simple calm = loop_passed t m (frame.Repeats condition fs) (seen_frame w (frame.Repeats condition fs)) a rest s refl refl (λ e. refl) refl refl (λ e. refl) refl refl calm
  jump_shown t m (frame.Turns condition fs) a rest s simple calm = passed t m (frame.Turns condition fs) (seen_frame w (frame.Turns condition fs)) a rest s refl refl (λ e. refl) refl refl (λ e. refl) refl refl calm
  jump_shown t m (frame.Ranges x fs) a rest s simple calm = passed t m (frame.Ranges x fs) (seen_frame w (frame.Ranges x fs)) a rest s refl refl (λ e. refl) refl refl (λ e. refl) refl refl calm
  jump_shown t m (frame.Counts x value last fs) a rest s simple calm = loop_passed t m (frame.Counts x value last fs) (seen_frame w (frame.Counts x value last fs)) a rest s refl refl (λ e. refl) refl refl (λ e. refl) refl refl calm
  jump_shown t m frame.Exits a rest s simple calm = passed t m frame.Exits frame.Exits a rest s refl refl (λ e. refl) refl refl (λ e. refl) refl refl calm
  jump_shown t m (frame.Handles hs) a rest s simple calm = handlers_passed t m hs a rest s calm
  jump_shown t m frame.Closes a rest s simple calm = master_passed t m a rest s (landing m frame.Closes) (landing m frame.Closes)
  jump_shown t m (frame.Leaves mode) a rest s simple calm = passed t m (frame.Leaves mode) (frame.Leaves mode) a rest s refl refl (λ e. refl) refl refl (λ e. refl) refl refl calm
  jump_shown t m (frame.Calls procedure b actuals) a rest s simple calm = absurd simple
  jump_shown t m (frame.Returns actuals references) a rest s simple calm = absurd simple
  jump_shown t m (frame.Evaluates right) a rest s simple calm = passed t m (frame.Evaluates right) (seen_frame w (frame.Evaluates right)) a rest s refl refl (λ e. refl) refl refl (λ e. refl) refl refl calm
  jump_shown t m (frame.Computes form) a rest s simple calm = passed t m (frame.Computes form) (seen_frame w (frame.Computes form)) a rest s refl refl (λ e. refl) refl refl (λ e. refl) refl refl calm
  jump_shown t m (frame.Follows cs) a rest s simple calm = passed t m (frame.Follows cs) (frame.Follows cs) a rest s refl refl (λ e. refl) refl refl (λ e. refl) refl refl calm
  jump_shown t m (frame.TestsNull equal) a rest s simple calm = passed t m (frame.TestsNull equal) (frame.TestsNull equal) a rest s refl refl (λ e. refl) refl refl (λ e. refl) refl refl calm
  jump_shown t m (frame.Refers q) a rest s simple calm = absurd simple
  jump_shown t m (frame.RefersIn place record_type) a rest s simple calm = absurd simple
  jump_shown t m (frame.Opens path) a rest s simple calm = absurd simple
  jump_shown t m (frame.OpensIn c) a rest s simple calm = absurd simple
  jump_shown t m (frame.Continues links) a rest s simple calm = passed t m (frame.Continues links) (seen_frame w (frame.Continues links)) a rest s refl refl (λ e. refl) refl refl (λ e. refl) refl refl calm
  jump_shown t m (frame.Applies operator) a rest s simple calm = passed t m (frame.Applies operator) (frame.Applies operator) a rest s refl refl (λ e. refl) refl refl (λ e. refl) refl refl calm
  jump_shown t m (frame.AppliesAlone operator) a rest s simple calm = passed t m (frame.AppliesAlone operator) (frame.AppliesAlone operator) a rest s refl refl (λ e. refl) refl refl (λ e. refl) refl refl calm
  jump_shown t m (frame.Fills items) a rest s simple calm = passed t m (frame.Fills items) (seen_frame w (frame.Fills items)) a rest s refl refl (λ e. refl) refl refl (λ e. refl) refl refl calm
  jump_shown t m (frame.Copies c record_type) a rest s simple calm = passed t m (frame.Copies c record_type) (frame.Copies c record_type) a rest s refl refl (λ e. refl) refl refl (λ e. refl) refl refl calm
  jump_shown t m (frame.Creates access count) a rest s simple calm = passed t m (frame.Creates access count) (frame.Creates access count) a rest s refl refl (λ e. refl) refl refl (λ e. refl) refl refl calm
  jump_shown t m (frame.Stores x) a rest s simple calm = passed t m (frame.Stores x) (frame.Stores x) a rest s refl refl (λ e. refl) refl refl (λ e. refl) refl refl calm
  jump_shown t m (frame.Targets c right) a rest s simple calm = passed t m (frame.Targets c right) (seen_frame w (frame.Targets c right)) a rest s refl refl (λ e. refl) refl refl (λ e. refl) refl refl calm
  jump_shown t m (frame.StoresIn v c) a rest s simple calm = stored_passed t m (number_in w v c) v c a rest s calm
  jump_shown t m (frame.TargetsRecord c record_type items) a rest s simple calm = passed t m (frame.TargetsRecord c record_type items) (seen_frame w (frame.TargetsRecord c record_type items)) a rest s refl refl (λ e. refl) refl refl (λ e. refl) refl refl calm
  jump_shown t m (frame.StoresRecord v c count) a rest s simple calm = passed t m (frame.StoresRecord v c count) (frame.StoresRecord v c count) a rest s refl refl (λ e. refl) refl refl (λ e. refl) refl refl calm
  jump_shown t m (frame.Assigns record_type) a rest s simple calm = absurd simple
  jump_shown t m (frame.Receives c) a rest s simple calm = passed t m (frame.Receives c) (frame.Receives c) a rest s refl refl (λ e. refl) refl refl (λ e. refl) refl refl calm
  jump_shown t m (frame.FreesIn access c) a rest s simple calm = passed t m (frame.FreesIn access c) (frame.FreesIn access c) a rest s refl refl (λ e. refl) refl refl (λ e. refl) refl refl calm
  jump_shown t m (frame.Declares x) a rest s simple calm = passed t m (frame.Declares x) (frame.Declares x) a rest s refl refl (λ e. refl) refl refl (λ e. refl) refl refl calm
  jump_shown t m (frame.DeclaresRecord x record_type) a rest s simple calm = absurd simple
  jump_shown t m (frame.Treats v treatment tasks) a rest s simple calm = absurd simple
  jump_shown t m (frame.Awaits v by done of part tasks) a rest s simple calm = absurd simple
  jump_shown t m frame.Confines a rest s simple calm = absurd simple
  jump_shown t m (frame.Resumes mode) a rest s simple calm = absurd simple
  jump_shown t m frame.Writes a rest s simple calm = passed t m frame.Writes frame.Writes a rest s refl refl (λ e. refl) refl refl (λ e. refl) refl refl calm
  jump_shown t m (frame.Ends v) a rest s simple calm = passed t m (frame.Ends v) (frame.Ends v) a rest s refl refl (λ e. refl) refl refl (λ e. refl) refl refl calm
  jump_shown t m (frame.GivesBack v cause pool) a rest s simple calm = passed t m (frame.GivesBack v cause pool) (frame.GivesBack v cause pool) a rest s refl refl (λ e. refl) refl refl (λ e. refl) refl refl calm
  jump_shown t m (frame.Clears x) a rest s simple calm = passed t m (frame.Clears x) (frame.Clears x) a rest s refl refl (λ e. refl) refl refl (λ e. refl) refl refl calm
  jump_shown t m (frame.ClearsIn v c) a rest s simple calm = cleared_passed t m (number_in w v c) v c a rest s calm
