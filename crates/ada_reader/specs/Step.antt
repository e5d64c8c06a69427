-- Phrases: what reading gives of the tokens that are left, which is a value and the tokens that are left then, or where reading stops.

use Rattle.std.specs.Prelude.{◌≡◌, ◌<◌, ℕ, zero, suc, Bool, true, false, not, List, [], ◌∷◌, length, map, Option, Some, None, IfSome, Result, Ok, Err, if◌then◌else◌}
use Rattle.std.specs.Global.{Vec}
use denote.Enum.Bare.{sameb}
use denote.MutBor.{MutBor}
use denote.Triple.Both.{Both}
use Rattle.ada_text.specs.contracts.word.Word.{the_type as words}
use Rattle.ada_text.specs.contracts.delimiter.Delimiter.{the_type as delimiters}
use Rattle.ada_text.specs.declared.token.Token.{Token}
use Rattle.ada_text.specs.declared.spot.Spot.{Spot}
use Rattle.ada_text.specs.Exactly.{Exactly}
use Rattle.ada_text.specs.Token.{Kind, identifier, number, string, reserved, delimiter, Lexeme, lexemes_of}
use Rattle.ada_tree.specs.Names.{Ident}
use Rattle.ada_reader.specs.declared.reader.Reader.{Reader}
use Rattle.ada_reader.specs.declared.reader.Stop.{Stop}
use Rattle.ada_reader.specs.declared.reader.Stop.TheVariants.{Here, TooDeep, NoMemory}

-- A step, and then one that takes its value; the first step that fails is the answer.
infixl 10 ◌>>=◌
-- What is read, and then what is read behind it; where reading stops, it stops there.
abbrev pub ◌>>=◌ : {A B E : Type 0} → Result A E → (A → Result B E) → Result B E
(Ok x) >>= f = f x
(Err e) >>= f = Err e

-- Where reading stops: before these tokens, the first of which may not stand there; or at a token that opens a level of nesting past the limit.
pub data Stopped : Type 0 where
  here : List Lexeme → Stopped
  too_deep : Spot → Stopped

-- What reading gives: a value and the tokens that are left, or where it stops.
abbrev pub Outcome : Type 0 → Type 0
Outcome A = Result (A × List Lexeme) Stopped

-- A phrase: what reading it gives of the tokens that are left.
abbrev pub Phrase : Type 0 → Type 0
Phrase A = List Lexeme → Outcome A

-- Where the code stops, as a phrase says it; out of memory says nothing of the tokens.
abbrev pub stopped_at : List Token → Stop → Option Stopped
stopped_at left Here = Some (here (lexemes_of left))
stopped_at left (TooDeep spot) = Some (too_deep spot)
stopped_at left NoMemory = None

-- The code stops where the phrase does, out of memory aside.
abbrev pub Stops : {Y : Type 0} → Stop → List Token → Outcome Y → Type 0
Stops stop left read = IfSome (stopped_at left stop) (λ stopped. read ≡ Err stopped)

-- The code's answer, its value seen as a tree, and the tokens that are left, are exactly what a phrase gives, out of memory aside.
abbrev pub Gives : {X Y : Type 0} → (X → Y) → Result X Stop → List Token → Outcome Y → Type 0
Gives view result left = Exactly (λ x. (view x, lexemes_of left)) (stopped_at left) result

-- Between its entry and its exit the code takes exactly this phrase from its reader, out of memory aside.
abbrev pub Reads : {X Y : Type 0} → (X → Y) → Both (MutBor Reader) (MutBor Reader) → Phrase Y → Result X Stop → Type 0
Reads view reader phrase result =
    Gives view result reader.exit.now.tokens.now (phrase (lexemes_of reader.entry.now.tokens.now))

-- A value as it is.
abbrev pub itself : {X : Type 0} → X → X
itself x = x

-- Each element of a list, seen as a tree.
abbrev pub each : {X Y : Type 0} → (X → Y) → Vec X → List Y
each view v = map view v.items

-- One token.

-- Where a token stands.
abbrev pub spot_of : Lexeme → Spot
spot_of t = record { line = t.line; column = t.column }

-- Whether a token is this word or this delimiter.
abbrev pub is_kind : Kind → Kind → Bool
is_kind (reserved w) (reserved v) = sameb words v w
is_kind (delimiter d) (delimiter e) = sameb delimiters e d
is_kind _ _ = false

-- Whether a token is an identifier.
abbrev pub is_identifier : Kind → Bool
is_identifier (identifier text) = true
is_identifier _ = false

-- Whether a token is a number.
abbrev pub is_number : Kind → Bool
is_number (number n) = true
is_number _ = false

-- Whether a token is a string.
abbrev pub is_string : Kind → Bool
is_string (string bytes) = true
is_string _ = false

-- Whether the first token passes a test.
abbrev pub is_at : (Kind → Bool) → List Lexeme → Bool
is_at test [] = false
is_at test (t ∷ ts) = test t.kind

-- This word or this delimiter, and where it stands.
unfoldable pub fixed : Kind → Phrase Spot
fixed k [] = Err (here [])
fixed k (t ∷ ts) = if is_kind k t.kind then Ok (spot_of t, ts) else Err (here (t ∷ ts))

-- An identifier, if the kind of a token is that.
abbrev pub identifier_from : Kind → Lexeme → List Lexeme → Outcome Ident
identifier_from (identifier text) t ts = Ok (record { text = text; spot = spot_of t }, ts)
identifier_from _ t ts = Err (here (t ∷ ts))

-- An identifier.
unfoldable pub identifier_at : Phrase Ident
identifier_at [] = Err (here [])
identifier_at (t ∷ ts) = identifier_from t.kind t ts

-- A number and where it stands, if the kind of a token is that.
abbrev pub number_from : Kind → Lexeme → List Lexeme → Outcome (ℕ × Spot)
number_from (number n) t ts = Ok ((n, spot_of t), ts)
number_from _ t ts = Err (here (t ∷ ts))

-- A number and where it stands.
unfoldable pub number_at : Phrase (ℕ × Spot)
number_at [] = Err (here [])
number_at (t ∷ ts) = number_from t.kind t ts

-- A string's bytes and where it stands, if the kind of a token is that.
abbrev pub string_from : Kind → Lexeme → List Lexeme → Outcome (List ℕ × Spot)
string_from (string bytes) t ts = Ok ((bytes, spot_of t), ts)
string_from _ t ts = Err (here (t ∷ ts))

-- A string's bytes and where it stands.
unfoldable pub string_at : Phrase (List ℕ × Spot)
string_at [] = Err (here [])
string_at (t ∷ ts) = string_from t.kind t ts

-- An opening token is taken where a level of nesting more may be open; else reading stops at it.
abbrev pub allowed : ℕ → Spot × List Lexeme → Outcome Spot
allowed zero x = Err (too_deep x.0)
allowed (suc room) x = Ok x

-- A token that opens a level of nesting; `room` levels more may be open.
abbrev pub opening_in : ℕ → Kind → Phrase Spot
opening_in room k ts = fixed k ts >>= allowed room

-- Phrases of phrases.

-- No token at all.
abbrev pub nothing : Phrase (Unit {0})
nothing ts = Ok (tt, ts)

-- A phrase, and then one that may depend on it.
abbrev pub continued : {A B : Type 0} → Phrase A → (A → Phrase B) → Phrase B
continued p q ts = p ts >>= λ x. q x.0 x.1

-- A phrase, as another value.
abbrev pub mapped : {A B : Type 0} → (A → B) → Phrase A → Phrase B
mapped f p ts = p ts >>= λ x. Ok (f x.0, x.1)

-- A phrase, and then another.
abbrev pub both : {A B : Type 0} → Phrase A → Phrase B → Phrase (A × B)
both p q = continued p (λ x. mapped (λ y. (x, y)) q)

-- A word or delimiter, and then a phrase.
abbrev pub after : {A : Type 0} → Kind → Phrase A → Phrase A
after k p = continued (fixed k) (λ spot. p)

-- The first phrase where the test holds, and else the second.
abbrev pub choose : {A : Type 0} → (List Lexeme → Bool) → Phrase A → Phrase A → Phrase A
choose test p q ts = if test ts then p ts else q ts

-- one phrase after the other, as long as the test holds; the number bounds how many
abbrev pub many : {A : Type 0} → (List Lexeme → Bool) → Phrase A → ℕ → Phrase (List A)
many goes item zero ts = Ok ([], ts)
many goes item (suc n) ts =
    if goes ts then item ts >>= (λ x. many goes item n x.1 >>= λ xs. Ok (x.0 ∷ xs.0, xs.1)) else Ok ([], ts)

-- A phrase, again and again, as long as the test holds.
unfoldable pub all_of : {A : Type 0} → (List Lexeme → Bool) → Phrase A → Phrase (List A)
all_of goes item ts = many goes item (suc (length ts)) ts

-- A token that opens a level of nesting, and then a phrase.
abbrev pub opened : {A : Type 0} → ℕ → Kind → Phrase A → Phrase A
opened room k p = continued (opening_in room k) (λ _. p)

-- a phrase, then as long as the test holds an operator and one more, joined from the left; the number bounds how many
abbrev pub joined : {A O : Type 0} → (List Lexeme → Bool) → Phrase O → Phrase A → (A → O → A → A) → ℕ → A → Phrase A
joined goes operator item join zero x ts = Ok (x, ts)
joined goes operator item join (suc n) x ts =
    if goes ts then operator ts >>= (λ o. item o.1 >>= λ y. joined goes operator item join n (join x o.0 y.0) y.1) else Ok (x, ts)

-- Behind the first phrase, an operator and one more, again and again, as long as the test holds.
unfoldable pub chain : {A O : Type 0} → (List Lexeme → Bool) → Phrase O → Phrase A → (A → O → A → A) → A → Phrase A
chain goes operator item join x ts = joined goes operator item join (suc (length ts)) x ts

-- Whether this word or delimiter is next.
abbrev pub at : Kind → List Lexeme → Bool
at k = is_at (is_kind k)

-- Whether it is not.
abbrev pub not_at : Kind → List Lexeme → Bool
not_at k ts = not (at k ts)

-- A word or delimiter was next and is taken, or it was not next and nothing is taken.
abbrev pub TakesIfNext : Kind → Both (MutBor Reader) (MutBor Reader) → Option Spot → Type 0
TakesIfNext k reader None =
    (at k (lexemes_of reader.entry.now.tokens.now) ≡ false) × (reader.exit.now.tokens.now ≡ reader.entry.now.tokens.now)
TakesIfNext k reader (Some spot) =
    (at k (lexemes_of reader.entry.now.tokens.now) ≡ true) ×
    (fixed k (lexemes_of reader.entry.now.tokens.now) ≡ Ok (spot, lexemes_of reader.exit.now.tokens.now)) ×
    (length reader.exit.now.tokens.now < length reader.entry.now.tokens.now)
