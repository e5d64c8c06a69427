-- What typing says of a state: no operation runs where no operation's body ends next, and none waits behind the call of the running body (7.6), since what is
-- left of that body has no place for one.

use Rattle.std.proofs.Common.{◌≡◌, Bool, true, false, List, [], ◌∷◌, refl}
use Rattle.ada_program.specs.ProgramForm.{ProgramForm}
use Rattle.ada_meaning.specs.declared.state.Mode.{Mode}
use Rattle.ada_meaning.specs.declared.state.Mode.TheVariants.{Running, Raising, Exiting, Returning}
use Rattle.ada_meaning.specs.Frame.{Frame}
use Rattle.ada_meaning.specs.Frame as frame
use Rattle.ada_meaning.specs.Named.{State}
use Rattle.ada_typed.specs.Holding.{Cells, cells_of}
use Rattle.ada_typed.proofs.Values.{OperandKind, AreFilled}
use Rattle.ada_typed.proofs.Kept.{behind_call}
use Rattle.ada_typed.proofs.Control as typed
use Rattle.ada_finalized.specs.Law.{NoOperationRuns}
use Rattle.ada_sound.proofs.Invariant.{Control}
use Rattle.ada_sound.proofs.Operating.{IsCalm}

-- What lies in objects is what their types say.
pub filled_in : (p : ProgramForm) (s : State) → typed.TypedIn p s → AreFilled p.types (cells_of s.heap) (cells_of s.heap)
filled_in p s (typed.running kinds ready fits) = ready.filled
filled_in p s (typed.on_jump mode jumps goes) = jumps.filled
filled_in p s (typed.operated kinds ready ended) = ready.filled
filled_in p s (typed.out_of_operation e kinds jumps ended) = jumps.filled

-- Is the end of an operation's body next?
abbrev pub ends_operation : Control → Bool
ends_operation [] = false
ends_operation (f ∷ k) = typed.is_operation f

pub operation_ends_there : (p : ProgramForm) (cells : Cells) (kinds : List OperandKind) (k : Control) → typed.AtOperation p cells kinds k → ends_operation k ≡ true
operation_ends_there p cells kinds _ (typed.awaiting some treated fits) = refl
operation_ends_there p cells kinds _ (typed.confined some fits) = refl

module _ (p : ProgramForm) (cells : Cells) where
  none_runs : (k : Control) → typed.Catches p cells k → IsCalm (behind_call k) → NoOperationRuns k
  none_runs [] catches calm = tt
  none_runs (frame.Returns actuals references ∷ k) catches calm = (refl, calm)
  none_runs (frame.Handles hs ∷ k) catches calm = (refl, none_runs k (typed.catches p cells k [] catches.3) calm)
  none_runs (frame.Awaits v by done of part tasks ∷ k) catches calm = absurd catches
  none_runs (frame.Confines ∷ k) catches calm = absurd catches
  none_runs (f ∷ k) catches calm = (refl, none_runs k catches calm)

  goes_calm : (mode : Mode) (k : Control) → typed.Goes p cells mode k → IsCalm (behind_call k) → NoOperationRuns k
  goes_calm Running k goes calm = absurd goes
  goes_calm (Raising e) k goes calm = none_runs k goes calm
  goes_calm Exiting k goes calm = none_runs k goes.1 calm
  goes_calm Returning k goes calm = none_runs k goes calm

pub typed_calm : (p : ProgramForm) (s : State) → typed.TypedIn p s → ends_operation s.control ≡ false → IsCalm (behind_call s.control) → NoOperationRuns s.control
typed_calm p s (typed.running kinds ready fits) none calm = none_runs p (cells_of s.heap) s.control (typed.catches p (cells_of s.heap) s.control kinds fits) calm
typed_calm p s (typed.on_jump mode jumps goes) none calm = goes_calm p (cells_of s.heap) mode s.control goes calm
typed_calm p s (typed.operated kinds ready ended) none calm = let there = operation_ends_there p (cells_of s.heap) kinds s.control ended in absurd (cc (there, none))
typed_calm p s (typed.out_of_operation e kinds jumps ended) none calm = let there = operation_ends_there p (cells_of s.heap) kinds s.control ended in absurd (cc (there, none))

-- So none runs behind the call.
pub behind_calm : (k : Control) → NoOperationRuns k → IsCalm (behind_call k)
behind_calm [] none = tt
behind_calm (frame.Returns actuals references ∷ k) none = none.1
behind_calm (frame.Awaits v by done of part tasks ∷ k) none = absurd (cc (none.0))
behind_calm (frame.Confines ∷ k) none = absurd (cc (none.0))
behind_calm (f ∷ k) none = behind_calm k none.1
