-- The answer to a source: a text and how it ends.

use Rattle.std.specs.Prelude.{◌≡◌, ℕ, ℤ, ◌≤◌, ◌<◌, Bool, true, false, List, length, Some, Ok, Err}
use Rattle.ada_input.specs.Input.{input_of}
use Rattle.ada_program.specs.declared.program.Program.{Program}
use Rattle.ada_verdict.specs.declared.fault.Verdict.{Verdict}
use Rattle.ada_verdict.specs.First.{IsAccepted, IsFirst}
use Rattle.ada_verdict.specs.Refusal.{Told, refusal_of}
use Rattle.ada_pools.specs.Runner.{Runner}
use Rattle.ada_serve.specs.declared.settings.Options.{Options}
use Rattle.ada_serve.specs.declared.serve.TheConstants.{LONGEST_INPUT}
use Rattle.ada_serve.specs.declared.serve.Status.{Status}
use Rattle.ada_serve.specs.declared.serve.Status.TheVariants.{Accepted, Refused}
use Rattle.ada_serve.specs.Texts.{refusal_text, accepted_text}
use Rattle.ada_serve.specs.Runner.{HasRun, runner_before}

-- The line of a fault that has one: all but want of memory.
pub record IsRefusal (verdict : Verdict) (text : List ℕ) (status : Status) : Type 0 where
  pub told : Told
  pub tells : refusal_of verdict ≡ Some told
  pub is : text ≡ refusal_text told
  pub ends : status ≡ Refused

-- An input, whose bytes are so, gives these numbers: it is not too long, and each of its words is a number.
pub record GivesNumbers (IsInput : List ℕ → Type 0) (numbers : List ℤ) : Type 0 where
  pub bytes : List ℕ
  pub input : IsInput bytes
  pub within : length bytes ≤ LONGEST_INPUT
  pub are : input_of bytes ≡ Ok numbers

-- An input that is not too long has a word that is no number; the first such word stands at this place, counted from 1.
pub record HasBadWord (IsInput : List ℕ → Type 0) (place : ℕ) : Type 0 where
  pub bytes : List ℕ
  pub input : IsInput bytes
  pub within : length bytes ≤ LONGEST_INPUT
  pub bad : input_of bytes ≡ Err place

-- An input has more bytes than one may have.
pub record IsTooLong (IsInput : List ℕ → Type 0) : Type 0 where
  pub bytes : List ℕ
  pub input : IsInput bytes
  pub longer : LONGEST_INPUT < length bytes

-- The answer to a program that is to be run, traced or not: it runs on the numbers that its input gives.
pub record IsRunAnswer (IsInput : List ℕ → Type 0) (program : Program) (trace : Bool) (limit : ℕ) (start : Runner) (text : List ℕ) (status : Status) : Type 0 where
  pub numbers : List ℤ
  pub given : GivesNumbers IsInput numbers
  pub run : HasRun program trace numbers limit start text status

-- The answer to a program that is only checked, and to one that is to be run, and may begin so many statements. Only a run looks at the input.
abbrev pub IsProgramAnswer : (IsInput : List ℕ → Type 0) → Program → (run trace : Bool) → (limit : ℕ) → Runner → List ℕ → Status → Type 0
IsProgramAnswer IsInput program false trace limit start text status = (text ≡ accepted_text) × (status ≡ Accepted)
IsProgramAnswer IsInput program true trace limit start text status = IsRunAnswer IsInput program trace limit start text status

-- The answer to a source, with what is asked for: the refusal of its first fault; or its program is accepted: it is only checked, or it is
-- run on the numbers of the input up to its end or to the limit of statements.
pub data Answer (source : List ℕ) (IsInput : List ℕ → Type 0) (options : Options) (text : List ℕ) (status : Status) : Type 0 where
  refused : (verdict : Verdict) → IsFirst source verdict → IsRefusal verdict text status → Answer source IsInput options text status
  accepted : (program : Program) → IsAccepted source program
      → IsProgramAnswer IsInput program options.run options.trace options.steps (runner_before program options) text status
      → Answer source IsInput options text status
