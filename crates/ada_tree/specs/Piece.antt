-- What tokens are written with: pieces, one for each token.

use Rattle.std.specs.Prelude.{◌≡◌, ℕ, zero, suc, Bool, true, false, List, [], ◌∷◌}
use Rattle.ada_text.specs.declared.spot.Spot.{Spot}
use Rattle.ada_text.specs.Token.{Kind, Lexeme}

-- A token that a phrase is written with: of this kind; where the tree keeps its spot, there; an opening token past the limit of nesting; or none at all.
pub data Piece : Type 0 where
  anywhere : Kind → Piece
  placed : Kind → Spot → Piece
  deep : Kind → Piece
  never : Piece

-- Does the token match the piece? A `deep` piece, which would open a level past the limit, matches no token.
abbrev pub IsPiece : Lexeme → Piece → Type 0
IsPiece t (anywhere k) = t.kind ≡ k
IsPiece t (placed k spot) = (t.kind ≡ k) × (t.line ≡ spot.line) × (t.column ≡ spot.column)
IsPiece t (deep k) = ⊥
IsPiece t never = ⊥

-- The tokens up to the rest are the pieces, one by one.
abbrev pub Written : List Piece → List Lexeme → List Lexeme → Type 0
Written [] tokens rest = tokens ≡ rest
Written (piece ∷ pieces) [] rest = ⊥
Written (piece ∷ pieces) (token ∷ tokens) rest = IsPiece token piece × Written pieces tokens rest

-- Does the token match the piece, where a `deep` piece matches the token that opens its level?
abbrev pub IsSpelled : Lexeme → Piece → Type 0
IsSpelled t (anywhere k) = t.kind ≡ k
IsSpelled t (placed k spot) = (t.kind ≡ k) × (t.line ≡ spot.line) × (t.column ≡ spot.column)
IsSpelled t (deep k) = t.kind ≡ k
IsSpelled t never = ⊥

-- The tokens up to the rest are the pieces, one by one, however deep the phrase is nested.
abbrev pub Spelled : List Piece → List Lexeme → List Lexeme → Type 0
Spelled [] tokens rest = tokens ≡ rest
Spelled (piece ∷ pieces) [] rest = ⊥
Spelled (piece ∷ pieces) (token ∷ tokens) rest = IsSpelled token piece × Spelled pieces tokens rest

-- The token that opens a level of nesting; `room` levels more may be open.
abbrev pub opening : ℕ → Kind → Piece
opening zero k = deep k
opening (suc room) k = anywhere k

-- The token that opens a level of nesting, where the tree keeps its spot.
abbrev pub opening_at : ℕ → Kind → Spot → Piece
opening_at zero k spot = deep k
opening_at (suc room) k spot = placed k spot

-- The pieces of a phrase that the grammar allows here; where it does not allow the phrase, no tokens match.
abbrev pub guarded : Bool → List Piece → List Piece
guarded true pieces = pieces
guarded false pieces = never ∷ []
