-- What the program is asked to do.

use Rattle.std.specs.Prelude.{ℕ, ◌+◌, ◌*◌, ◌-◌, ◌≤◌, ◌==◌, ◌&&◌, nat_eq, nat_lt, Bool, not, List, [], ◌∷◌, if◌then◌else◌, Option, Some, None}
use Rattle.std.specs.Char.{is_ascii_digit}
use Rattle.std.specs.List.{list_all, list_any, position_or_len, before_first, after_first}
use Rattle.std.specs.String.{string_bytes}
use Rattle.ada_pools.specs.declared.sizes.PoolSize.{PoolSize}

-- The number that digits write behind those of another number.
abbrev pub number_behind : ℕ → List ℕ → ℕ
number_behind n [] = n
number_behind n (c ∷ cs) = number_behind (10 * n + (c - 48)) cs

-- The number that a word gives: digits 0 to 9 alone, of a number from 0 to 4294967295.
abbrev pub number_of : List ℕ → Option ℕ
number_of [] = None
number_of (c ∷ cs) =
    if list_all is_ascii_digit (c ∷ cs) && nat_lt (number_behind 0 (c ∷ cs)) 4294967296
    then Some (number_behind 0 (c ∷ cs))
    else None

-- Up to 65,536: a larger size is none.
abbrev pub at_most_words : Option ℕ → Option ℕ
at_most_words None = None
at_most_words (Some n) = if nat_lt 65536 n then None else Some n

-- The size in words that a word gives: digits 0 to 9 alone, of a number from 0 to 65536.
abbrev pub words_of : List ℕ → Option ℕ
words_of word = at_most_words (number_of word)

-- Is this the byte `=`?
abbrev pub is_equals : ℕ → Bool
is_equals c = c == 61

-- A size that is given for pools of a name is one that a pool may have.
abbrev pub HasSize : PoolSize → Type 0
HasSize size = size.words ≤ 65_536

-- A name with the size that is given for it.
abbrev pub shown_size : PoolSize → List ℕ × ℕ
shown_size size = (string_bytes size.name, size.words)

-- A name with a size, where there is one.
abbrev pub named : List ℕ → Option ℕ → Option (List ℕ × ℕ)
named name None = None
named name (Some words) = Some (name, words)

-- The name and the size that a word gives: what stands before the first `=`, which is not empty, and the size behind it.
abbrev pub size_in : List ℕ → Option (List ℕ × ℕ)
size_in word =
    if list_any is_equals word && not (nat_eq (position_or_len is_equals word) 0)
    then named (before_first is_equals word) (words_of (after_first is_equals word))
    else None
