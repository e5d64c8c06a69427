-- From what is kept of an input to its numbers, or to why it has none.

use Rattle.std.proofs.Common.{◌≡◌, inl, inr, ℕ, ℤ, ◌<◌, ◌≤◌, arith, List, length, take, ◌∙◌, ap, subst, Option, Ok, Err}
use Rattle.ada_input.specs.declared.fault.InputFault.{InputFault}
use Rattle.ada_input.specs.declared.fault.InputFault.TheVariants as input
use Rattle.ada_input.specs.Input.{input_of, IsFaultOf}
use Rattle.ada_serve.specs.declared.serve.ServeFault.{ServeFault}
use Rattle.ada_serve.specs.declared.serve.ServeFault.TheVariants.{BadInput, InputTooLong, ReadFailed, WriteFailed, NoSuchPool, NoMemory}
use Rattle.ada_serve.specs.declared.serve.TheConstants.{LONGEST_INPUT, MOST_KEPT}
use Rattle.ada_serve.specs.Answer.{GivesNumbers, HasBadWord, IsTooLong}
use Rattle.ada_serve.specs.Calls.{IsRead, IsKept, FaultReads}
use Rattle.ada_serve.specs.Served.{fault_of, FaultGives}
use Rattle.ada_serve.proofs.Reading.{fits}

-- what is kept of an input that is not too long is all of it
whole : (kept all : List ℕ) → kept ≡ take MOST_KEPT all → length kept ≤ LONGEST_INPUT → kept ≡ all
whole kept all e within =
    elim (fits MOST_KEPT all) [
      | inl is ↦ e ∙ is
      | inr cut ↦ let same : length kept ≡ MOST_KEPT = ap length e ∙ cut.0 in absurd (omega (arith, same, within))
    ]

-- an input is longer than one may be where what is kept of it is
longer : (kept all : List ℕ) → kept ≡ take MOST_KEPT all → LONGEST_INPUT < length kept → LONGEST_INPUT < length all
longer kept all e long =
    elim (fits MOST_KEPT all) [
      | inl is ↦ let same : length kept ≡ length all = ap length (e ∙ is) in omega (arith, same, long)
      | inr cut ↦ omega (arith, cut.1)
    ]

pub too_long : {I : Type 0} (remaining : I → Option (List ℕ)) (reads : I → Option (List ℕ) → I → Type 0) (first last : I) (kept : List ℕ) → IsKept remaining reads first last kept → LONGEST_INPUT < length kept → IsTooLong (IsRead remaining reads first last)
too_long remaining reads first last kept k long = record { bytes = k.bytes; input = k.read; longer = longer kept k.bytes k.front long }

pub gives : {I : Type 0} (remaining : I → Option (List ℕ)) (reads : I → Option (List ℕ) → I → Type 0) (first last : I) (kept : List ℕ) (numbers : List ℤ) → IsKept remaining reads first last kept → length kept ≤ LONGEST_INPUT → input_of kept ≡ Ok numbers → GivesNumbers (IsRead remaining reads first last) numbers
gives remaining reads first last kept numbers k within are =
    let all : kept ≡ k.bytes = whole kept k.bytes k.front within in
    record {
      bytes = k.bytes;
      input = k.read;
      within = subst (λ (bytes : List ℕ). length bytes ≤ LONGEST_INPUT) all within;
      are = subst (λ (bytes : List ℕ). input_of bytes ≡ Ok numbers) all are;
    }

pub has_bad_word : {I : Type 0} (remaining : I → Option (List ℕ)) (reads : I → Option (List ℕ) → I → Type 0) (first last : I) (kept : List ℕ) (place : ℕ) → IsKept remaining reads first last kept → length kept ≤ LONGEST_INPUT → input_of kept ≡ Err place → HasBadWord (IsRead remaining reads first last) place
has_bad_word remaining reads first last kept place k within bad =
    let all : kept ≡ k.bytes = whole kept k.bytes k.front within in
    record {
      bytes = k.bytes;
      input = k.read;
      within = subst (λ (bytes : List ℕ). length bytes ≤ LONGEST_INPUT) all within;
      bad = subst (λ (bytes : List ℕ). input_of bytes ≡ Err place) all bad;
    }

-- a fault of the words, and one of the reading
pub words_fault : {I : Type 0} (remaining : I → Option (List ℕ)) (reads : I → Option (List ℕ) → I → Type 0) (first last : I) (kept : List ℕ) (fault : InputFault) → IsKept remaining reads first last kept → length kept ≤ LONGEST_INPUT → IsFaultOf kept fault → FaultGives remaining reads first last (fault_of fault)
words_fault remaining reads first last kept (input.BadWord place) k within bad = has_bad_word remaining reads first last kept place k within bad
words_fault remaining reads first last kept input.NoMemory k within bad = inr (k.bytes, k.read)

pub reading_fault : {I : Type 0} (remaining : I → Option (List ℕ)) (reads : I → Option (List ℕ) → I → Type 0) (first last : I) (fault : ServeFault) → FaultReads reads first last fault → FaultGives remaining reads first last fault
reading_fault remaining reads first last (BadInput place) f = absurd f
reading_fault remaining reads first last InputTooLong f = absurd f
reading_fault remaining reads first last ReadFailed f = f
reading_fault remaining reads first last WriteFailed f = absurd f
reading_fault remaining reads first last NoSuchPool f = absurd f
reading_fault remaining reads first last NoMemory f = inl f
