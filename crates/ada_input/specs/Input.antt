-- The numbers of a run's input, which Run_Input.Get takes one by one.

use Rattle.std.specs.Prelude.{◌≡◌, ℕ, ◌+◌, ◌-◌, ◌*◌, ◌^◌, ℤ, pos, neg_ℤ, nat_le, nat_lt, Bool, ◌||◌, ◌&&◌, ◌==◌, if◌then◌else◌, List, [], ◌∷◌, length, drop, Option, Some, None, option_map, Result, Ok, Err}
use Rattle.std.specs.List.{slice_split}
use Rattle.std.specs.Str.{all_ascii_digits}
use Rattle.std.specs.Str.Parse.{starts_with_minus}
use Rattle.ada_input.specs.declared.fault.InputFault.{InputFault}
use Rattle.ada_input.specs.declared.fault.InputFault.TheVariants.{BadWord, NoMemory}

-- Whether a byte separates words: a tab, a line feed, a carriage return or a blank.
unfoldable pub is_separator : ℕ → Bool
is_separator b = b == 9 || b == 10 || b == 13 || b == 32

-- What digits stand for: each its value times the power of ten that its place has.
unfoldable pub value : List ℕ → ℕ
value [] = 0
value (b ∷ bs) = (b - 48) * 10 ^ length bs + value bs

-- The number that these bytes write: they are digits, one or more, and stand for at most this.
unfoldable pub magnitude_of : (greatest : ℕ) → List ℕ → Option ℕ
magnitude_of greatest digits =
    if nat_lt 0 (length digits) && (all_ascii_digits digits && nat_le (value digits) greatest) then Some (value digits) else None

-- The Integer that a word writes: perhaps a minus sign, and then digits; it is in -2^31 .. 2^31 - 1 (3.5.4).
unfoldable pub number_of : List ℕ → Option ℤ
number_of word =
    if starts_with_minus word then option_map (λ n. neg_ℤ (pos n)) (magnitude_of (2 ^ 31) (drop 1 word))
    else option_map pos (magnitude_of (2 ^ 31 - 1) word)

-- A word of an input: its bytes, and the place of the first of them, counted from 1.
pub record Word : Type 0 where
  pub place : ℕ
  pub bytes : List ℕ

-- The words among pieces that stand one separator apart, the first of them at this place: those that are not empty.
unfoldable pub words_among : (place : ℕ) → List (List ℕ) → List Word
words_among place [] = []
words_among place ([] ∷ pieces) = words_among (place + 1) pieces
words_among place ((b ∷ bs) ∷ pieces) =
    record { place = place; bytes = b ∷ bs } ∷ words_among (place + length (b ∷ bs) + 1) pieces

-- The words of bytes, the first of which stands at this place: the bytes are split at each separator.
abbrev pub words_from : (place : ℕ) → List ℕ → List Word
words_from place bytes = words_among place (slice_split is_separator bytes)

-- A number before the numbers behind it, if these are numbers.
abbrev pub before : ℤ → Result (List ℤ) ℕ → Result (List ℤ) ℕ
before n (Ok ns) = Ok (n ∷ ns)
before n (Err place) = Err place

-- The number of the word at this place, before those of the words behind it; its place, if it writes none.
abbrev pub with_word : (place : ℕ) → Option ℤ → Result (List ℤ) ℕ → Result (List ℤ) ℕ
with_word place None behind = Err place
with_word place (Some n) behind = before n behind

-- The numbers that all of these words write, or the place of the first word that writes none.
unfoldable pub numbers_of : List Word → Result (List ℤ) ℕ
numbers_of [] = Ok []
numbers_of (word ∷ words) = with_word word.place (number_of word.bytes) (numbers_of words)

-- The numbers of an input, or the place of its first word that is no number.
abbrev pub input_of : List ℕ → Result (List ℤ) ℕ
input_of bytes = numbers_of (words_from 1 bytes)

-- The fault of an input is the place of its first bad word; that memory ran out says nothing of the input.
abbrev pub IsFaultOf : List ℕ → InputFault → Type 0
IsFaultOf bytes (BadWord place) = input_of bytes ≡ Err place
IsFaultOf bytes NoMemory = Unit {0}
