-- While a jump is on its way, frames are passed, masters are left, and it lands.

use Rattle.std.proofs.Common.{◌≡◌, false, List, [], ◌∷◌}
use Rattle.std.specs.Prelude.{Option, Some, None}
use Rattle.ada_program.specs.declared.program.Exception.{Exception}
use Rattle.ada_program.specs.Form.{StmtsForm, no_stmts, a_stmt, HandlersForm, DeclarationForm}
use Rattle.ada_program.specs.Handling.{handler_of}
use Rattle.ada_flow.specs.Flow.{Holds}
use Rattle.ada_meaning.specs.declared.state.Value.{Value}
use Rattle.ada_meaning.specs.declared.state.Mode.{Mode}
use Rattle.ada_meaning.specs.declared.state.Mode.TheVariants.{Running, Raising, Exiting, Returning}
use Rattle.ada_meaning.specs.Frame.{Frame, Elaborates, Does, Repeats, Counts, Handles, Closes, Leaves, Returns, is_master, is_return, landing, handler_landing}
use Rattle.ada_meaning.specs.Frame as frame
use Rattle.ada_meaning.specs.declared.event.Birth.TheVariants.{Creation, Copy, Adjustment}
use Rattle.ada_meaning.specs.Event.{Quiet}
use Rattle.ada_meaning.specs.State.{Activation}
use Rattle.ada_meaning.specs.Step.{pass_next, unwound}
use Rattle.ada_meaning.specs.Named.{State, named}
use Rattle.ada_sound.proofs.Invariant.{Known, Control, Rooms, To, By, TakenBy, Outside, BehindMaster, RunsOn, GoesOn, RaisesBy, Working, Stepped, Fine, ways}
use Rattle.ada_sound.proofs.Ready.{running, in_mode, at_work, at_less, runs_on, goes_in_mode}
use Rattle.ada_flow.specs.Flow.{left_finalized}
use Rattle.ada_sound.proofs.LeftFinalized.{finalized_good, finalized_none, finalized_unaliased}
use Rattle.ada_sound.proofs.Undone.{undo_fine}

module _ (known : Known) (k : Control) where
  -- What comes to the end of a master leaves it.
  closes_by : (mode : Mode) (gone : _) (rooms : Rooms) (holds : Holds) → By mode (Outside known gone (ways known k rooms)) holds → BehindMaster known gone (By mode (ways known k rooms)) holds
  closes_by Running gone rooms holds r = r
  closes_by (Raising e) gone rooms holds r = r
  closes_by Exiting gone rooms holds r = r
  closes_by Returning gone rooms holds r = r

  none_closes : (mode : Mode) (holds : Holds) → By mode (ways known (Closes ∷ k) []) holds → ⊥
  none_closes Running holds r = r
  none_closes (Raising e) holds r = r
  none_closes Exiting holds r = r
  none_closes Returning holds r = r

  pub leaves_from : (mode : Mode) (rooms : Rooms) (holds : Holds) → GoesOn known mode (Closes ∷ k) rooms holds → To (RunsOn known (Leaves mode ∷ k) rooms) holds
  leaves_from mode [] holds r = absurd (none_closes mode holds r)
  leaves_from mode (gone ∷ rooms) holds r =
      let variables = known.program.variables in
      let behind = closes_by mode gone rooms holds r in (
        left_finalized variables known.implicit gone holds,
        finalized_good variables known.implicit gone holds,
        (finalized_none variables known.implicit gone holds, (behind.0, finalized_unaliased variables known.implicit gone holds), behind.1),
      )

  -- An exception in declarations, and what never is one, leaves the master as well.
  module _ (ds : List DeclarationForm) (fs : StmtsForm) (hs : HandlersForm) where
    raised_closes : (e : Exception) (rooms : Rooms) (holds : Holds) → GoesOn known (Raising e) (Elaborates ds fs hs ∷ k) rooms holds → GoesOn known (Raising e) (Closes ∷ k) rooms holds
    raised_closes e [] holds r = r
    raised_closes e (gone ∷ rooms) holds r = r

    exited_closes : (rooms : Rooms) (holds : Holds) → GoesOn known Exiting (Elaborates ds fs hs ∷ k) rooms holds → GoesOn known Exiting (Closes ∷ k) rooms holds
    exited_closes [] holds r = r
    exited_closes (gone ∷ rooms) holds r = r

    returned_closes : (rooms : Rooms) (holds : Holds) → GoesOn known Returning (Elaborates ds fs hs ∷ k) rooms holds → GoesOn known Returning (Closes ∷ k) rooms holds
    returned_closes [] holds r = r
    returned_closes (gone ∷ rooms) holds r = r

  -- No jump is on its way where a master is being left.
  raised_leaves : (mode : Mode) (e : Exception) (rooms : Rooms) (holds : Holds) → GoesOn known (Raising e) (Leaves mode ∷ k) rooms holds → ⊥
  raised_leaves mode e [] holds r = r
  raised_leaves mode e (gone ∷ rooms) holds r = r

  exited_leaves : (mode : Mode) (rooms : Rooms) (holds : Holds) → GoesOn known Exiting (Leaves mode ∷ k) rooms holds → ⊥
  exited_leaves mode [] holds r = r
  exited_leaves mode (gone ∷ rooms) holds r = r

  returned_leaves : (mode : Mode) (rooms : Rooms) (holds : Holds) → GoesOn known Returning (Leaves mode ∷ k) rooms holds → ⊥
  returned_leaves mode [] holds r = r
  returned_leaves mode (gone ∷ rooms) holds r = r

  module _ (a : Activation Value) (rest : List (Activation Value)) (s : State) where
    -- The master is left first.
    pub closes_fine : (mode : Mode) → Working known s.heap a.places s.masters (GoesOn known mode (Closes ∷ k)) → Stepped known s.heap Quiet (running (Leaves mode ∷ k) a rest s)
    closes_fine mode w = runs_on known (Leaves mode ∷ k) a rest s (at_less w (leaves_from mode w.rooms w.holds w.rest)) Quiet tt

    -- An exception comes to handlers.
    handled_fine : (e : Exception) (taken : Option StmtsForm) → Working known s.heap a.places s.masters (λ rooms holds. TakenBy known k (ways known k rooms) e taken holds) → Fine known s.heap s.masters (pass_next named false (handler_landing taken) (Raising e) (in_mode (Raising e) k a rest s))
    handled_fine e None w = goes_in_mode known k a rest s (Raising e) (at_less w w.rest)
    handled_fine e (Some no_stmts) w = tt
    handled_fine e (Some (a_stmt f fs)) w = runs_on known (Does (a_stmt f fs) ∷ k) a rest s (at_work w w.rest) Quiet tt

    pub raising_fine : (e : Exception) (f : Frame Value) → is_return f ≡ false → RaisesBy known e f k s.heap a.places s.masters → Fine known s.heap s.masters (pass_next named (is_master f) (landing (Raising e) f) (Raising e) (unwound named (Raising e) f (in_mode (Raising e) k a rest s)))
    raising_fine e (Elaborates ds fs hs) stays w = closes_fine (Raising e) (at_work w (raised_closes ds fs hs e w.rooms w.holds w.rest))
    raising_fine e Closes stays w = closes_fine (Raising e) w
    raising_fine e (Handles hs) stays w = handled_fine e (handler_of e hs) (at_work w w.rest)
    raising_fine e (Leaves mode) stays w = absurd (raised_leaves mode e w.rooms w.holds w.rest)
    raising_fine e (Returns actuals references) stays w = absurd (cc stays)
    raising_fine e (frame.Awaits v Creation done of part tasks) stays r = undo_fine known k a rest s e done v r.1 r.2 r.3 r.4
    raising_fine e (frame.Awaits v Copy done of part tasks) stays r = let never = r.0 in absurd (cc never)
    raising_fine e (frame.Awaits v (Adjustment number) done of part tasks) stays r = let never = r.0 in absurd (cc never)
    raising_fine e frame.Confines stays w = absurd (w.rest)
    raising_fine e (frame.Resumes mode) stays w = absurd (w.rest)
    raising_fine e f stays w = goes_in_mode known k a rest s (Raising e) (at_work w w.rest)

    pub exiting_fine : (f : Frame Value) → is_return f ≡ false → Working known s.heap a.places s.masters (GoesOn known Exiting (f ∷ k)) → Fine known s.heap s.masters (pass_next named (is_master f) (landing Exiting f) Exiting (unwound named Exiting f (in_mode Exiting k a rest s)))
    exiting_fine (Elaborates ds fs hs) stays w = closes_fine Exiting (at_work w (exited_closes ds fs hs w.rooms w.holds w.rest))
    exiting_fine Closes stays w = closes_fine Exiting w
    exiting_fine (Repeats condition body) stays w = runs_on known k a rest s (at_less w w.rest) Quiet tt
    exiting_fine (Counts x next last body) stays w = runs_on known k a rest s (at_less w w.rest) Quiet tt
    exiting_fine (Leaves mode) stays w = absurd (exited_leaves mode w.rooms w.holds w.rest)
    exiting_fine (Returns actuals references) stays w = absurd (cc stays)
    exiting_fine (frame.Awaits v by done of part tasks) stays w = absurd (w.rest)
    exiting_fine frame.Confines stays w = absurd (w.rest)
    exiting_fine (frame.Resumes mode) stays w = absurd (w.rest)
    exiting_fine f stays w = goes_in_mode known k a rest s Exiting (at_work w w.rest)

    pub returning_fine : (f : Frame Value) → is_return f ≡ false → Working known s.heap a.places s.masters (GoesOn known Returning (f ∷ k)) → Fine known s.heap s.masters (pass_next named (is_master f) (landing Returning f) Returning (unwound named Returning f (in_mode Returning k a rest s)))
    returning_fine (Elaborates ds fs hs) stays w = closes_fine Returning (at_work w (returned_closes ds fs hs w.rooms w.holds w.rest))
    returning_fine Closes stays w = closes_fine Returning w
    returning_fine (Leaves mode) stays w = absurd (returned_leaves mode w.rooms w.holds w.rest)
    returning_fine (Returns actuals references) stays w = absurd (cc stays)
    returning_fine (frame.Awaits v by done of part tasks) stays w = absurd (w.rest)
    returning_fine frame.Confines stays w = absurd (w.rest)
    returning_fine (frame.Resumes mode) stays w = absurd (w.rest)
    returning_fine f stays w = goes_in_mode known k a rest s Returning (at_work w w.rest)
