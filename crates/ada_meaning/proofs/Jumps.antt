-- What a jump does to activations, and to what is left, where it passes a frame.

use Rattle.std.proofs.Common.{◌≡◌, true, false, List, refl}
use Rattle.ada_program.specs.Form.{ActualForm}
use Rattle.ada_meaning.specs.declared.state.Mode.{Mode}
use Rattle.ada_meaning.specs.declared.state.Mode.TheVariants.{Running, Raising, Exiting, Returning}
use Rattle.ada_meaning.specs.declared.state.Value.{Value}
use Rattle.ada_meaning.specs.Frame.{Frame, is_master, is_loop, is_return}
use Rattle.ada_meaning.specs.Frame as frame
use Rattle.ada_meaning.specs.Step.{left_by, unwound}
use Rattle.ada_meaning.specs.Named.{State, named}

-- A jump changes nothing but the activations and what is left where it passes a frame.
abbrev pub unwound_to : Mode → Frame Value → State → State
unwound_to mode f s = record s { activations = (unwound named mode f s).activations; control = (unwound named mode f s).control }

left_so :
    (mode : Mode) (actuals : List ActualForm) (references : List Value) (s : State)
    → left_by named mode actuals references s ≡ unwound_to mode (frame.Returns actuals references) s
left_so Running actuals references s = refl
left_so (Raising e) actuals references s = refl
left_so Exiting actuals references s = refl
left_so Returning actuals references s = refl

pub unwound_by : (mode : Mode) (f : Frame Value) (s : State) → unwound named mode f s ≡ unwound_to mode f s
unwound_by mode (frame.Returns actuals references) s = left_so mode actuals references s
unwound_by mode f s = refl

-- No master is a loop, or the end of a call's body.
pub master_no_loop : (f : Frame Value) → is_master f ≡ true → is_loop f ≡ false
master_no_loop (frame.Repeats condition fs) is = absurd (cc)
master_no_loop (frame.Counts x value last fs) is = absurd (cc)
master_no_loop f is = refl

pub master_no_return : (f : Frame Value) → is_master f ≡ true → is_return f ≡ false
master_no_return (frame.Returns actuals references) is = absurd (cc)
master_no_return f is = refl
