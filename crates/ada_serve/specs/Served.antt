-- What a call of `serve` does: what it writes, and what becomes of its two readers.

use Rattle.std.specs.Prelude.{◌≡◌, ◌≢◌, ◌⊎◌, ℕ, ℤ, Bool, true, false, List, [], Option, Result, Ok, Err, IfErr}
use Rattle.std.specs.Io.KnownBytes.{Appends}
use Rattle.ada_input.specs.declared.fault.InputFault.{InputFault}
use Rattle.ada_input.specs.declared.fault.InputFault.TheVariants as input
use Rattle.ada_program.specs.declared.program.Program.{Program}
use Rattle.ada_meaning.specs.Safe.{Safe}
use Rattle.ada_pools.specs.Sizes.{all_for_pools}
use Rattle.ada_verdict.specs.declared.fault.Verdict.{Verdict}
use Rattle.ada_verdict.specs.First.{IsAccepted, IsFirst}
use Rattle.ada_serve.specs.declared.settings.Options.{Options}
use Rattle.ada_serve.specs.declared.serve.ServeFault.{ServeFault}
use Rattle.ada_serve.specs.declared.serve.ServeFault.TheVariants.{BadInput, InputTooLong, ReadFailed, WriteFailed, NoSuchPool, NoMemory}
use Rattle.ada_serve.specs.declared.serve.Status.{Status}
use Rattle.ada_serve.specs.declared.serve.Status.TheVariants.{Accepted, Refused, Finished, Unhandled, Stopped, Erroneous}
use Rattle.ada_serve.specs.Calls.{ReadsOn, IsRead, ReadFails}
use Rattle.ada_serve.specs.Answer.{Answer, GivesNumbers, HasBadWord, IsTooLong}
use Rattle.ada_serve.specs.Written.{Says, Begins}

-- What was written is exactly the answer to the bytes of the source and of the input; after a fault it is nothing, or a front of that answer.
abbrev pub Serves : (IsSource IsInput : List ℕ → Type 0) → Options → Option (List ℕ) → Option (List ℕ)
    → Result Status ServeFault → Type 0
Serves IsSource IsInput options old new (Ok status) =
    (bytes : List ℕ) × IsSource bytes × Says (Answer bytes IsInput options) old new status
Serves IsSource IsInput options old new (Err fault) =
    Appends old new [] ⊎ ((bytes : List ℕ) × IsSource bytes × Begins (Answer bytes IsInput options) old new)

-- The source is a program that obeys the rules, and it is safe.
pub record IsSafeSource (IsSource : List ℕ → Type 0) : Type 0 where
  pub bytes : List ℕ
  pub program : Program
  pub source : IsSource bytes
  pub accepted : IsAccepted bytes program
  pub safe : Safe program

-- Whatever is answered but a refusal: the source is a safe program.
abbrev pub PromisesSafe : (List ℕ → Type 0) → Result Status ServeFault → Type 0
PromisesSafe IsSource (Ok Accepted) = IsSafeSource IsSource
PromisesSafe IsSource (Ok Refused) = Unit {0}
PromisesSafe IsSource (Ok Finished) = IsSafeSource IsSource
PromisesSafe IsSource (Ok Unhandled) = IsSafeSource IsSource
PromisesSafe IsSource (Ok Stopped) = IsSafeSource IsSource
PromisesSafe IsSource (Ok Erroneous) = IsSafeSource IsSource
PromisesSafe IsSource (Err fault) = Unit {0}

-- What is answered for a fault of the input's words.
abbrev pub fault_of : InputFault → ServeFault
fault_of (input.BadWord place) = BadInput place
fault_of input.NoMemory = NoMemory

-- A fault that comes of the input: it has a bad word, is too long, or its reading failed.
abbrev pub IsOfInput : ServeFault → Type 0
IsOfInput (BadInput place) = Unit {0}
IsOfInput InputTooLong = Unit {0}
IsOfInput ReadFailed = Unit {0}
IsOfInput WriteFailed = ⊥
IsOfInput NoSuchPool = ⊥
IsOfInput NoMemory = ⊥

-- The input was read to its end, and gives numbers.
abbrev pub InputGives : {I : Type 0} → (I → Option (List ℕ)) → (I → Option (List ℕ) → I → Type 0)
    → I → I → Type 0
InputGives remaining reads first last = (numbers : List ℤ) × GivesNumbers (IsRead remaining reads first last) numbers

-- The input was read without a failure: to its end, unless memory ran out.
abbrev pub InputWorks : {I : Type 0} → (I → Option (List ℕ)) → (I → Option (List ℕ) → I → Type 0)
    → I → I → Type 0
InputWorks remaining reads first last =
    ReadsOn reads first last ⊎ ((bytes : List ℕ) × IsRead remaining reads first last bytes)

-- The input after a fault of reading its numbers: it was read to its end and has a bad word, or is too long, or its reading failed, exactly
-- where that is the fault.
abbrev pub FaultGives : {I : Type 0} → (I → Option (List ℕ)) → (I → Option (List ℕ) → I → Type 0)
    → I → I → ServeFault → Type 0
FaultGives remaining reads first last (BadInput place) = HasBadWord (IsRead remaining reads first last) place
FaultGives remaining reads first last InputTooLong = IsTooLong (IsRead remaining reads first last)
FaultGives remaining reads first last ReadFailed = ReadFails reads first last
FaultGives remaining reads first last WriteFailed = ⊥
FaultGives remaining reads first last NoSuchPool = ⊥
FaultGives remaining reads first last NoMemory = InputWorks remaining reads first last

-- The input is read to its end and gives numbers where a program has been run, and is not called otherwise.
abbrev pub InputEnds : {I : Type 0} → (I → Option (List ℕ)) → (I → Option (List ℕ) → I → Type 0)
    → I → I → Status → Type 0
InputEnds remaining reads first last Accepted = last ≡ first
InputEnds remaining reads first last Refused = last ≡ first
InputEnds remaining reads first last Finished = InputGives remaining reads first last
InputEnds remaining reads first last Unhandled = InputGives remaining reads first last
InputEnds remaining reads first last Stopped = InputGives remaining reads first last
InputEnds remaining reads first last Erroneous = InputGives remaining reads first last

-- The input after a fault: that of reading its numbers; or it was not called, or gave numbers, and the fault came later.
abbrev pub FaultTurns : {I : Type 0} → (I → Option (List ℕ)) → (I → Option (List ℕ) → I → Type 0)
    → I → I → ServeFault → Type 0
FaultTurns remaining reads first last (BadInput place) = FaultGives remaining reads first last (BadInput place)
FaultTurns remaining reads first last InputTooLong = FaultGives remaining reads first last InputTooLong
FaultTurns remaining reads first last ReadFailed = FaultGives remaining reads first last ReadFailed
FaultTurns remaining reads first last WriteFailed = (last ≡ first) ⊎ InputGives remaining reads first last
FaultTurns remaining reads first last NoSuchPool = last ≡ first
FaultTurns remaining reads first last NoMemory = (last ≡ first) ⊎ InputWorks remaining reads first last

-- The input after a call that had read its source, whatever the call answered.
abbrev pub InputTurns : {I : Type 0} → (I → Option (List ℕ)) → (I → Option (List ℕ) → I → Type 0)
    → I → I → Result Status ServeFault → Type 0
InputTurns remaining reads first last (Ok status) = InputEnds remaining reads first last status
InputTurns remaining reads first last (Err fault) = FaultTurns remaining reads first last fault

-- The source is accepted, and a run is asked for.
pub record IsToRun (source : List ℕ) (run : Bool) : Type 0 where
  pub program : Program
  pub accepted : IsAccepted source program
  pub runs : run ≡ true

-- A run is asked for, and some size is for no pool of the program.
abbrev pub LacksPool : Program → Options → Type 0
LacksPool program options = (options.run ≡ true) × (all_for_pools program options.sizes.items ≡ false)

-- No run is asked for, or each size is for a pool of the program.
abbrev pub HasPools : Program → Options → Type 0
HasPools program options = options.run ≡ true → all_for_pools program options.sizes.items ≡ true

-- The answer for an accepted program, by the sizes that are given: that a pool is missing exactly where one is, unless memory ran out.
abbrev pub TellsPools : Program → Options → Result Status ServeFault → Type 0
TellsPools program options (Ok status) = HasPools program options
TellsPools program options (Err (BadInput place)) = HasPools program options
TellsPools program options (Err InputTooLong) = HasPools program options
TellsPools program options (Err ReadFailed) = HasPools program options
TellsPools program options (Err WriteFailed) = HasPools program options
TellsPools program options (Err NoSuchPool) = LacksPool program options
TellsPools program options (Err NoMemory) = Unit {0}

-- The answer by the sizes that are given: the source is refused, and no size is looked at; or it is accepted, and the answer tells of a missing pool.
pub data TellsSizes (source : List ℕ) (options : Options) (result : Result Status ServeFault) : Type 0 where
  unasked : (verdict : Verdict) → IsFirst source verdict → result ≢ Err NoSuchPool → TellsSizes source options result
  asked : (program : Program) → IsAccepted source program → TellsPools program options result → TellsSizes source options result

-- The source was read to its end; then the input was read, if the source is accepted and a run is asked for.
pub record SourceEnds {I : Type 0} (remaining : I → Option (List ℕ)) (reads : I → Option (List ℕ) → I → Type 0)
    (IsSource : List ℕ → Type 0) (options : Options) (first last : I) (result : Result Status ServeFault) : Type 0 where
  pub bytes : List ℕ
  pub source : IsSource bytes
  pub input : InputTurns remaining reads first last result
  pub asked : IfErr result (λ fault. IsOfInput fault → IsToRun bytes options.run)
  pub sizes : TellsSizes bytes options result

-- The reading of the source broke off, for its own failure or for want of memory, and the input was not called.
abbrev pub SourceCut : {S I : Type 0} → (S → Option (List ℕ) → S → Type 0) → S → S → I → I
    → Result Status ServeFault → Type 0
SourceCut reads first last before after (Ok status) = ⊥
SourceCut reads first last before after (Err (BadInput place)) = ⊥
SourceCut reads first last before after (Err InputTooLong) = ⊥
SourceCut reads first last before after (Err ReadFailed) = ReadFails reads first last × (after ≡ before)
SourceCut reads first last before after (Err WriteFailed) = ⊥
SourceCut reads first last before after (Err NoSuchPool) = ⊥
SourceCut reads first last before after (Err NoMemory) = ReadsOn reads first last × (after ≡ before)

-- Both readers after a call: the reading of the source broke off, or the source was read to its end and then the input.
abbrev pub ReadersEnd : {S I : Type 0} → (S → Option (List ℕ)) → (S → Option (List ℕ) → S → Type 0) → S → S
    → (I → Option (List ℕ)) → (I → Option (List ℕ) → I → Type 0) → I → I
    → Options → Result Status ServeFault → Type 0
ReadersEnd remaining reads first last input_remaining input_reads before after options result =
    SourceCut reads first last before after result
    ⊎ SourceEnds input_remaining input_reads (IsRead remaining reads first last) options before after result
