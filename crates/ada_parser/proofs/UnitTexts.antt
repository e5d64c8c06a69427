-- What is written so is read so: the levels of nesting, one inside the other, and a compilation unit.
use Rattle.std.proofs.Common.{◌≡◌, ℕ, zero, suc, List, [], ◌∷◌, ◌++◌, Option, Some, None, Ok, Err, ◌⊎◌, inl, inr, refl, sym, ap, subst, append_assoc}
use Rattle.std.specs.List.{flat_map}
use Rattle.ada_text.specs.declared.spot.Spot.{Spot}
use Rattle.ada_text.specs.declared.word.Word.TheVariants as word
use Rattle.ada_text.specs.Token.{reserved, Lexeme}
use Rattle.ada_tree.specs.Piece.{Piece, anywhere, placed, deep, never, Written, Spelled}
use Rattle.ada_tree.specs.Names.{ident_pieces}
use Rattle.ada_tree.specs.Declarations.{clause_pieces, end_name_pieces}
use Rattle.ada_tree.specs.Statements.{DeclarationsTree, UnitTree, begin_of, ending_pieces, declarations_pieces, sequence_pieces, unit_pieces, deepest}
use Rattle.ada_reader.specs.Step.{◌>>=◌, Phrase, too_deep}
use Rattle.ada_phrases.specs.Statements.{inner_at, statements_at, declarations_at}
use Rattle.ada_phrases.specs.Units.{unit_from, unit_at, ended, whole_at}
use Rattle.ada_parser.proofs.Complete.{any, before, Complete, sinks, expected, leads_first, leads_any, complete_as, mapped_complete, both_complete, placed_complete, after_complete, identifier_complete}
use Rattle.ada_parser.proofs.ExpressionTexts.{one_less}
use Rattle.ada_parser.proofs.RightTexts.{Looks}
use Rattle.ada_parser.proofs.RecordTexts.{semicolon_complete}
use Rattle.ada_parser.proofs.DeclarationTexts.{clauses_complete, end_name_complete}
use Rattle.ada_parser.proofs.StatementTexts.{complete_value, declaration_list, declarations_again, Stated, Level, Holds, begin_complete, statements_complete}
use Rattle.ada_parser.proofs.ProcedureTexts.{declarations_complete}

-- ---- levels

-- what stands inside a level is read
pub levels : ((n : ℕ) → Looks n) → (room : ℕ) → Holds room (inner_at room)
unfolding inner_at
levels looks zero less e = absurd (let c : ⊥ = cc in c)
levels looks (suc room) less e = subst (λ (n : ℕ). Level n (inner_at (suc room))) (sym (one_less (suc room) room refl)) (record {
  statements = statements_complete looks room (levels looks room);
  declarations = declarations_complete looks room (levels looks room);
})

pub statements_at_complete : ((n : ℕ) → Looks n) → (room : ℕ) → Stated room (statements_at room)
unfolding statements_at
statements_at_complete looks room = statements_complete looks room (levels looks room)

pub declarations_at_complete : ((n : ℕ) → Looks n) → (room : ℕ) (ds : DeclarationsTree) → Complete (declarations_pieces room ds) (declarations_at room) (declaration_list ds) (before (reserved word.Begin))
unfolding declarations_at
declarations_at_complete looks room = declarations_complete looks room (levels looks room)

-- ---- units

unit_again : (u : UnitTree) → unit_from (u.clauses, (u.spot, (u.name, (declaration_list u.declarations, (u.body, (u.end_name, tt)))))) ≡ u
unit_again u = ap (λ xs. record { clauses = u.clauses; spot = u.spot; name = u.name; declarations = xs; body = u.body; end_name = u.end_name }) (declarations_again u.declarations)

grouped : (a b c d e f : List Piece) → (((((a ++ b) ++ c) ++ d) ++ e) ++ f) ≡ a ++ (b ++ (c ++ (d ++ (e ++ f))))
grouped a b c d e f = simp append_assoc

pub unit_complete : ((n : ℕ) → Looks n) → (room : ℕ) (u : UnitTree) → Complete (unit_pieces room u) (unit_at room) u any
unfolding unit_at
unit_complete looks room u = complete_as (complete_value (unit_again u) (mapped_complete unit_from (both_complete (clauses_complete u.clauses)
    (both_complete (placed_complete u.spot refl) (both_complete (identifier_complete u.name) (after_complete refl
    (both_complete (declarations_at_complete looks room u.declarations) (both_complete (begin_complete room (statements_at_complete looks room) u.body)
    (both_complete (end_name_complete u.end_name) semicolon_complete (leads_first refl)) leads_any) (leads_first refl))) leads_any) leads_any) (leads_first refl))))
    (grouped (flat_map clause_pieces u.clauses) (placed (reserved word.Procedure) u.spot ∷ ident_pieces u.name) (anywhere (reserved word.Is) ∷ declarations_pieces room u.declarations)
    (placed (reserved word.Begin) (begin_of u.body) ∷ sequence_pieces room u.body) (end_name_pieces u.end_name) ending_pieces)

ended_expected : (o : Option Spot) (u : UnitTree) → (expected o u [] >>= λ x. ended x.0 x.1) ≡ expected o u []
ended_expected None u = refl
ended_expected (Some spot) u = refl

-- a text of a tree is read as the tree, or sinks at its first token that is too deep
pub whole_complete : ((n : ℕ) → Looks n) → (u : UnitTree) (ts : List Lexeme) → Spelled (unit_pieces deepest u) ts [] → whole_at ts ≡ expected (sinks (unit_pieces deepest u) ts) u []
unfolding whole_at
whole_complete looks u ts w = rw ((unit_complete looks deepest u).reads ts [] w refl) (ended_expected (sinks (unit_pieces deepest u) ts) u)

-- ---- within the limit of nesting

-- nothing is written so where a token is too deep
written_sinks : (ps : List Piece) (ts rest : List Lexeme) (spot : Spot) → sinks ps ts ≡ Some spot → Written ps ts rest → ⊥
written_sinks [] ts rest spot e w = cc
written_sinks (p ∷ ps) [] rest spot e w = absurd w
written_sinks (anywhere k ∷ ps) (t ∷ ts) rest spot e w = written_sinks ps ts rest spot e w.1
written_sinks (placed k place ∷ ps) (t ∷ ts) rest spot e w = written_sinks ps ts rest spot e w.1
written_sinks (deep k ∷ ps) (t ∷ ts) rest spot e w = absurd w.0
written_sinks (never ∷ ps) (t ∷ ts) rest spot e w = absurd w.0

-- what is spelled so is read, or it is too deep and then nothing within the limit is written so
abbrev Read : {A : Type 0} → List Piece → Phrase A → A → List Lexeme → Type 0
Read ps read x ts = (read ts ≡ Ok (x, [])) ⊎ ((spot : Spot) × (read ts ≡ Err (too_deep spot)) × (Written ps ts [] → ⊥))

read_by : {A : Type 0} (ps : List Piece) (read : Phrase A) (x : A) (ts : List Lexeme) (o : Option Spot) → sinks ps ts ≡ o → read ts ≡ expected o x [] → Read ps read x ts
read_by ps read x ts None s e = inl e
read_by ps read x ts (Some spot) s e = inr (spot, e, written_sinks ps ts [] spot s)

pub unit_reads : ((n : ℕ) → Looks n) → (room : ℕ) (u : UnitTree) (ts : List Lexeme) → Spelled (unit_pieces room u) ts [] → (unit_at room ts ≡ Ok (u, [])) ⊎ ((spot : Spot) × (unit_at room ts ≡ Err (too_deep spot)) × (Written (unit_pieces room u) ts [] → ⊥))
unit_reads looks room u ts w = read_by (unit_pieces room u) (unit_at room) u ts (sinks (unit_pieces room u) ts) refl ((unit_complete looks room u).reads ts [] w refl)
