-- The first fault of a source is one.
use Rattle.std.proofs.Common.{◌≡◌, ◌≢◌, ℕ, ◌<◌, List, length, refl, sym, ◌∙◌, ap, arith}
use Rattle.ada_text.specs.declared.element.Flaw.{Flaw}
use Rattle.ada_text.specs.declared.element.Flaw.TheVariants.{ByteNotAllowed, OpenString, NumberRange, IdentifierForm}
use Rattle.ada_text.specs.declared.element.Refusal.TheVariants.{Flaw as AFlaw}
use Rattle.ada_text.specs.declared.fault.TextFault.{TextFault}
use Rattle.ada_text.specs.declared.fault.TextFault.TheVariants.{ByteNotAllowed as NotAllowedAt, OpenString as OpenAt, NumberRange as RangeAt, SourceTooLong, IdentifierForm as FormAt, NoMemory}
use Rattle.ada_text.specs.declared.limits.TheConstants.{LONGEST_SOURCE}
use Rattle.ada_text.specs.declared.spot.Spot.{Spot}
use Rattle.ada_text.specs.Gap.{next_start}
use Rattle.ada_text.specs.Token.{Lexeme}
use Rattle.ada_text.specs.Reading.{Ending, complete, broken, Spells, BreaksAt, fault_of, IsFirstFault}
use Rattle.ada_text.proofs.ReadingLemmas.{one_reading, no_spelling}

-- what a first fault is
data Named (source : List ℕ) (fault : TextFault) : Type 0 where
  long : fault ≡ SourceTooLong → LONGEST_SOURCE < length source → Named source fault
  flawed : (spot : Spot) (f : Flaw) → fault ≡ fault_of spot (AFlaw f) → BreaksAt source spot f → Named source fault

named : (source : List ℕ) (fault : TextFault) → fault ≢ NoMemory → IsFirstFault source fault → Named source fault
named source (NotAllowedAt spot) n h = flawed spot ByteNotAllowed refl h
named source (OpenAt spot) n h = flawed spot OpenString refl h
named source (RangeAt spot) n h = flawed spot NumberRange refl h
named source (FormAt spot) n h = flawed spot IdentifierForm refl h
named source SourceTooLong n h = long refl h
named source NoMemory n h = absurd (n refl)

-- the fault of an ending
fault_in : Ending → TextFault
fault_in e = elim e [ complete ↦ NoMemory | broken spot f ↦ fault_of spot (AFlaw f) ]

same_named : (source : List ℕ) (f g : TextFault) → Named source f → Named source g → f ≡ g
unfolding fault_in
same_named source f g (long a l) (long b m) = a ∙ sym b
same_named source f g (long a l) (flawed s y b k) = absurd (omega (arith, k.limit))
same_named source f g (flawed r x a h) (long b m) = absurd (omega (arith, h.limit))
same_named source f g (flawed r x a h) (flawed s y b k) =
    let same = (one_reading source (next_start source 0) h.ts k.ts (broken r x) (broken s y) h.reads k.reads).1 in
    a ∙ ap fault_in same ∙ sym b

pub one_fault : (source : List ℕ) (f g : TextFault) → IsFirstFault source f → IsFirstFault source g → f ≢ NoMemory → g ≢ NoMemory → f ≡ g
one_fault source f g h k m n = same_named source f g (named source f m h) (named source g n k)

pub none_spelled : (source : List ℕ) (ts : List Lexeme) (f : TextFault) → Spells source ts → IsFirstFault source f → f ≡ NoMemory
none_spelled source ts f h k = no_spelling source ts f k h
