-- The tokens of a source, or its first fault.
use Rattle.std.specs.Prelude.{◌≡◌, ℕ, ◌+◌, ◌≤◌, ◌<◌, List, [], ◌∷◌, length, drop, take}
use Rattle.ada_text.specs.declared.limits.TheConstants.{LONGEST_SOURCE}
use Rattle.ada_text.specs.declared.element.Flaw.{Flaw}
use Rattle.ada_text.specs.declared.element.Flaw.TheVariants.{ByteNotAllowed, OpenString, NumberRange, IdentifierForm}
use Rattle.ada_text.specs.declared.element.Refusal.{Refusal}
use Rattle.ada_text.specs.declared.element.Refusal.TheVariants.{Flaw as AFlaw, NoMemory as OutOfMemory}
use Rattle.ada_text.specs.declared.fault.TextFault.{TextFault}
use Rattle.ada_text.specs.declared.fault.TextFault.TheVariants.{ByteNotAllowed as NotAllowedAt, OpenString as OpenAt, NumberRange as RangeAt, SourceTooLong, IdentifierForm as FormAt, NoMemory}
use Rattle.ada_text.specs.declared.spot.Spot.{Spot}
use Rattle.ada_text.specs.Place.{line_after, column_after}
use Rattle.ada_text.specs.Gap.{next_start}
use Rattle.ada_text.specs.Element.{token, flaw, element}
use Rattle.ada_text.specs.Token.{Lexeme}

-- The token stands at place i, with its line and column, and its bytes are from..to.
pub record IsTokenAt (source : List ℕ) (i : ℕ) (t : Lexeme) : Type 0 where
  pub len : ℕ
  pub spelled : element (drop i source) ≡ token t.kind len
  pub from : t.from ≡ i
  pub to : t.to ≡ i + len
  pub line : t.line ≡ line_after (take i source)
  pub column : t.column ≡ column_after (take i source)

-- The flaw stands at place i, whose line and column are the spot's.
pub record IsFlawAt (source : List ℕ) (i : ℕ) (spot : Spot) (f : Flaw) : Type 0 where
  pub spelled : element (drop i source) ≡ flaw f
  pub line : spot.line ≡ line_after (take i source)
  pub column : spot.column ≡ column_after (take i source)

-- how a reading ends: with the source, or at a flaw
pub data Ending : Type 0 where
  complete : Ending
  broken : Spot → Flaw → Ending

-- Whether a source ends at a place as it is told to: it is read to its end, or a fault stands there.
abbrev pub EndsAt : List ℕ → ℕ → Ending → Type 0
EndsAt source i complete = drop i source ≡ []
EndsAt source i (broken spot f) = IsFlawAt source i spot f

-- From place i on, where neither separator nor comment stands, the source has these tokens, each
-- behind separators and comments, and then it ends so.
abbrev pub Reads : List ℕ → ℕ → List Lexeme → Ending → Type 0
Reads source i [] end = EndsAt source i end
Reads source i (t ∷ ts) end = IsTokenAt source i t × Reads source (next_start source t.to) ts end

-- The tokens of the source are these, and nothing else stands in it but separators and comments.
pub record Spells (source : List ℕ) (ts : List Lexeme) : Type 0 where
  pub limit : length source ≤ LONGEST_SOURCE
  pub reads : Reads source (next_start source 0) ts complete

-- The source has some tokens, and then this flaw.
pub record BreaksAt (source : List ℕ) (spot : Spot) (f : Flaw) : Type 0 where
  pub limit : length source ≤ LONGEST_SOURCE
  pub ts : List Lexeme
  pub reads : Reads source (next_start source 0) ts (broken spot f)

-- P holds of the flaw that a fault names, or Long where it names none but the source's length. Want
-- of memory is no fault of the source.
abbrev pub Names : (Spot → Flaw → Type 0) → Type 0 → TextFault → Type 0
Names P Long (NotAllowedAt spot) = P spot ByteNotAllowed
Names P Long (OpenAt spot) = P spot OpenString
Names P Long (RangeAt spot) = P spot NumberRange
Names P Long (FormAt spot) = P spot IdentifierForm
Names P Long SourceTooLong = Long
Names P Long NoMemory = Unit {0}

-- the fault that a flaw at a spot is, or that memory ran out
abbrev pub fault_of : Spot → Refusal → TextFault
fault_of spot (AFlaw ByteNotAllowed) = NotAllowedAt spot
fault_of spot (AFlaw OpenString) = OpenAt spot
fault_of spot (AFlaw NumberRange) = RangeAt spot
fault_of spot (AFlaw IdentifierForm) = FormAt spot
fault_of spot OutOfMemory = NoMemory

-- The first fault of a source: that it is too long, whatever else it holds, or the first flaw from the left.
abbrev pub IsFirstFault : List ℕ → TextFault → Type 0
IsFirstFault source fault = Names (BreaksAt source) (LONGEST_SOURCE < length source) fault
