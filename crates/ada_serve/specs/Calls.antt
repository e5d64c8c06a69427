-- Calls of a reader or of a writer, one after another, and how they end.

use Rattle.std.specs.Prelude.{◌≡◌, ◌≢◌, ◌⊎◌, ℕ, ◌+◌, ◌<◌, ◌≤◌, Bool, true, List, [], ◌++◌, take, Option, Some, None, Result, Ok, Err}
use Rattle.ada_serve.specs.declared.serve.ServeFault.{ServeFault}
use Rattle.ada_serve.specs.declared.serve.ServeFault.TheVariants.{BadInput, InputTooLong, ReadFailed, WriteFailed, NoSuchPool, NoMemory}
use Rattle.ada_serve.specs.declared.serve.TheConstants.{MOST_CALLS, MOST_KEPT}

-- The bytes that a call moved: the first n of these, or none at all where it failed.
abbrev pub moved : {E : Type 0} → Result ℕ E → List ℕ → Option (List ℕ)
moved (Ok n) bytes = Some (take n bytes)
moved (Err e) bytes = None

-- A call of a reader of memory takes the front off the bytes that are left, and never fails.
abbrev pub LosesFront : List ℕ → Option (List ℕ) → List ℕ → Type 0
LosesFront before (Some bytes) after = before ≡ bytes ++ after
LosesFront before None after = ⊥

-- A call of a writer to memory adds bytes at the end, and changes nothing where it fails.
abbrev pub GainsEnd : List ℕ → Option (List ℕ) → List ℕ → Type 0
GainsEnd before (Some bytes) after = after ≡ before ++ bytes
GainsEnd before None after = after ≡ before

-- The bytes that are left in a reader of the system, where it is open and they are known.
abbrev pub remaining_of : {R : Type 0} → (R → Option (List ℕ)) → Option R → Option (List ℕ)
remaining_of remaining None = None
remaining_of remaining (Some reader) = remaining reader

-- A reader of the system gives bytes only where it could be opened.
abbrev pub GivesOpen : {R : Type 0} → Option R → Option (List ℕ) → Type 0
GivesOpen None (Some bytes) = ⊥
GivesOpen None None = Unit {0}
GivesOpen (Some reader) given = Unit {0}

-- A reader or writer of the system marks a call that fails, and keeps the mark.
abbrev pub MarksFailure : Bool → Option (List ℕ) → Bool → Type 0
MarksFailure before (Some bytes) after = after ≡ before
MarksFailure before None after = after ≡ true

-- A number of calls that each moved at least a byte, and all the bytes that they moved.
pub data InCalls {X : Type 0} (call : X → Option (List ℕ) → X → Type 0) (first : X) :
    ℕ → List ℕ → X → Type 0 where
  none : InCalls call first 0 [] first
  more : {calls : ℕ} {all : List ℕ} {last : X} (n : ℕ) (bytes some : List ℕ) (mid : X)
      → InCalls call first n bytes mid → some ≢ [] → call mid (Some some) last
      → calls ≡ n + 1 → all ≡ bytes ++ some → InCalls call first calls all last

-- It was called any number of times, and no call failed or moved nothing.
pub record Works {X : Type 0} (call : X → Option (List ℕ) → X → Type 0) (first last : X) : Type 0 where
  pub calls : ℕ
  pub bytes : List ℕ
  pub moves : InCalls call first calls bytes last

-- These are all the bytes of a reader, where they are known.
abbrev pub IsAll : Option (List ℕ) → List ℕ → Type 0
IsAll None bytes = Unit {0}
IsAll (Some all) bytes = bytes ≡ all

-- A reader was read to its end and gave these bytes. Its last call, within the most calls, gave 0 bytes.
pub record IsRead {R : Type 0} (remaining : R → Option (List ℕ)) (reads : R → Option (List ℕ) → R → Type 0)
    (first last : R) (bytes : List ℕ) : Type 0 where
  pub calls : ℕ
  pub mid : R
  pub gave : InCalls reads first calls bytes mid
  pub within : calls < MOST_CALLS
  pub ends : reads mid (Some []) last
  pub whole : IsAll (remaining first) bytes

-- A reader failed: its last call did, within the most calls, or the most calls did not reach its end.
pub data ReadFails {R : Type 0} (reads : R → Option (List ℕ) → R → Type 0) (first last : R) : Type 0 where
  fails : (calls : ℕ) (bytes : List ℕ) (mid : R)
      → InCalls reads first calls bytes mid → calls < MOST_CALLS → reads mid None last
      → ReadFails reads first last
  goes_on : (bytes : List ℕ) → InCalls reads first MOST_CALLS bytes last → ReadFails reads first last

-- The last call of a writer failed or took nothing, and no other call did.
pub record WriteFails {W : Type 0} (writes : W → Option (List ℕ) → W → Type 0) (first last : W) : Type 0 where
  pub calls : ℕ
  pub bytes : List ℕ
  pub mid : W
  pub took : InCalls writes first calls bytes mid
  pub fails : writes mid None last ⊎ writes mid (Some []) last

-- A writer after a fault of a call that only writes: it failed exactly where that is the fault.
abbrev pub FaultWrites : {W : Type 0} → (W → Option (List ℕ) → W → Type 0) → W → W → ServeFault → Type 0
FaultWrites writes first last (BadInput place) = ⊥
FaultWrites writes first last InputTooLong = ⊥
FaultWrites writes first last ReadFailed = ⊥
FaultWrites writes first last WriteFailed = WriteFails writes first last
FaultWrites writes first last NoSuchPool = ⊥
FaultWrites writes first last NoMemory = Works writes first last

-- A writer after a call that only writes, whatever the call answered.
abbrev pub OnlyWrites : {W X : Type 0} → (W → Option (List ℕ) → W → Type 0) → W → W
    → Result X ServeFault → Type 0
OnlyWrites writes first last (Ok x) = Works writes first last
OnlyWrites writes first last (Err fault) = FaultWrites writes first last fault

-- A writer after a fault of a call that also reads: where a read failed, the input has no numbers, or a size is for no pool, it was not called.
abbrev pub FaultEnds : {W : Type 0} → (W → Option (List ℕ) → W → Type 0) → W → W → ServeFault → Type 0
FaultEnds writes first last (BadInput place) = last ≡ first
FaultEnds writes first last InputTooLong = last ≡ first
FaultEnds writes first last ReadFailed = last ≡ first
FaultEnds writes first last WriteFailed = WriteFails writes first last
FaultEnds writes first last NoSuchPool = last ≡ first
FaultEnds writes first last NoMemory = Works writes first last

-- A writer after a call that also reads, whatever the call answered.
abbrev pub WriterEnds : {W X : Type 0} → (W → Option (List ℕ) → W → Type 0) → W → W
    → Result X ServeFault → Type 0
WriterEnds writes first last (Ok x) = Works writes first last
WriterEnds writes first last (Err fault) = FaultEnds writes first last fault

-- A reader was read to its end, and these of its bytes are kept: at most one more than a source or an input may have.
pub record IsKept {R : Type 0} (remaining : R → Option (List ℕ)) (reads : R → Option (List ℕ) → R → Type 0)
    (first last : R) (kept : List ℕ) : Type 0 where
  pub bytes : List ℕ
  pub read : IsRead remaining reads first last bytes
  pub front : kept ≡ take MOST_KEPT bytes

-- A reader was called within the most calls; no call failed or reached its end.
pub record ReadsOn {R : Type 0} (reads : R → Option (List ℕ) → R → Type 0) (first last : R) : Type 0 where
  pub calls : ℕ
  pub bytes : List ℕ
  pub gave : InCalls reads first calls bytes last
  pub within : calls ≤ MOST_CALLS

-- A reader after a fault of its reading: it failed exactly where that is the fault.
abbrev pub FaultReads : {R : Type 0} → (R → Option (List ℕ) → R → Type 0) → R → R → ServeFault → Type 0
FaultReads reads first last (BadInput place) = ⊥
FaultReads reads first last InputTooLong = ⊥
FaultReads reads first last ReadFailed = ReadFails reads first last
FaultReads reads first last WriteFailed = ⊥
FaultReads reads first last NoSuchPool = ⊥
FaultReads reads first last NoMemory = ReadsOn reads first last
