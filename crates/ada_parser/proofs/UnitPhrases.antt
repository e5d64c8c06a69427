-- What is read is written so: declarations, what stands inside a level of nesting by the room for it, and a whole unit.
use Rattle.std.proofs.Common.{◌≡◌, ℕ, zero, suc, ◌≤◌, true, List, [], ◌∷◌, ◌++◌, length, Option, Some, None, refl, sym, ap, subst, ◌∙◌, append_assoc, le_refl}
use Rattle.std.specs.List.{flat_map}
use Rattle.std.proofs.lemmas.List.Concat.{flat_map-cons}
use Rattle.ada_text.specs.declared.spot.Spot.{Spot}
use Rattle.ada_text.specs.declared.word.Word.TheVariants as word
use Rattle.ada_text.specs.Token.{reserved, Lexeme}
use Rattle.ada_tree.specs.Piece.{Piece, anywhere, placed}
use Rattle.ada_tree.specs.Names.{Ident, ident_pieces}
use Rattle.ada_tree.specs.Declarations.{HeadTree, clause_pieces, end_name_pieces}
use Rattle.ada_tree.specs.Statements.{DeclarationTree, exception_declaration, constant_declaration, pool_declaration, object_declaration, borrower_declaration, incomplete_type, access_type, record_type, derived_type, attribute_clause, specification, body_declaration, instance, null_statement, DeclarationsTree, SequenceTree, begin_of, ending_pieces, declaration_pieces, sequence_pieces, unit_pieces, deepest}
use Rattle.ada_reader.specs.Step.{at, not_at}
use Rattle.ada_phrases.specs.Statements.{Inner, at_procedure, declaration_in, declarations_in, inner_at, statements_at, declarations_at}
use Rattle.ada_phrases.specs.Units.{unit_from, unit_at, ended, whole_at}
use Rattle.ada_parser.proofs.Local.{left_of, Fate, failed, Plain, continued_plain}
use Rattle.ada_parser.proofs.Sound.{is_filled, Sound, refuses_sound, mapped_sound, both_sound, choose_sound, sound_as, all_sound, placed_sound, after_sound, some_spot, identifier_sound}
use Rattle.ada_parser.proofs.ExpressionPhrases.{less_one}
use Rattle.ada_parser.proofs.DeclarationPhrases.{end_sound, end_name_sound, clauses_sound, object_sound, type_sound, attribute_clause_sound}
use Rattle.ada_parser.proofs.StatementPhrases.{listed_declarations, listed_statements, InnerSound, begin_sound, statements_in_sound}
use Rattle.ada_parser.proofs.ProcedurePhrases.{procedure_sound}

-- ---- declarations

declaration_in_sound : {inner : Inner} (room : ℕ) → InnerSound room inner → Sound (declaration_pieces room) (declaration_in room inner)
unfolding declaration_in
declaration_in_sound room sound =
    choose_sound (declaration_pieces room) at_procedure _ _ (λ t ts us. refl) (procedure_sound room sound)
    (choose_sound (declaration_pieces room) (at (reserved word.«Type»)) _ _ (λ t ts us. refl) (type_sound room)
    (choose_sound (declaration_pieces room) (at (reserved word.For)) _ _ (λ t ts us. refl) (attribute_clause_sound room) (object_sound room)))

head_filled : (room : ℕ) (h : HeadTree) (o : Option Spot) → h.overriding ≡ o → is_filled (declaration_pieces room (specification h)) ≡ true
head_filled room h None e = rw e refl
head_filled room h (Some spot) e = rw e refl

body_filled : (room : ℕ) (h : HeadTree) (ds : DeclarationsTree) (body : SequenceTree) (last : Option Ident) (o : Option Spot) → h.overriding ≡ o → is_filled (declaration_pieces room (body_declaration h ds body last)) ≡ true
body_filled room h ds body last None e = rw e refl
body_filled room h ds body last (Some spot) e = rw e refl

declaration_filled : (room : ℕ) (d : DeclarationTree) → is_filled (declaration_pieces room d) ≡ true
declaration_filled room (exception_declaration _) = refl
declaration_filled room (constant_declaration _ _) = refl
declaration_filled room (pool_declaration _ _ _ _) = refl
declaration_filled room (object_declaration _ _ _) = refl
declaration_filled room (borrower_declaration _ _ _) = refl
declaration_filled room (incomplete_type _ _) = refl
declaration_filled room (access_type _ _ _ _) = refl
declaration_filled room (record_type _ _ _) = refl
declaration_filled room (derived_type _ _ _ _) = refl
declaration_filled room (attribute_clause _ _ _ _) = refl
declaration_filled room (specification h) = head_filled room h h.overriding refl
declaration_filled room (body_declaration h ds body last) = body_filled room h ds body last h.overriding refl
declaration_filled room (instance _ _ _ _ _) = refl

declarations_are : (room : ℕ) (ds : List DeclarationTree) → listed_declarations room ds ≡ flat_map (declaration_pieces room) ds
declarations_are room [] = refl
declarations_are room (d ∷ ds) = ap (λ (ps : List Piece). declaration_pieces room d ++ ps) (declarations_are room ds) ∙ sym (flat_map-cons (declaration_pieces room) d ds)

declarations_in_sound : {inner : Inner} (room : ℕ) → InnerSound room inner → Sound (listed_declarations room) (declarations_in room inner)
unfolding declarations_in
declarations_in_sound room sound = sound_as (listed_declarations room)
    (all_sound (not_at (reserved word.Begin)) (λ t ts us. refl) (λ x able. declaration_filled room x) (declaration_in_sound room sound))
    (λ x able. declarations_are room x)

-- ---- by the room

pub inner_sound : (room : ℕ) → InnerSound room (inner_at room)
unfolding inner_at
inner_sound zero = record {
  declarations = refuses_sound (listed_declarations 0) ([], (tt, refl));
  statements = refuses_sound (listed_statements 0) (null_statement some_spot ∷ [], ((tt, (tt, tt)), refl));
}
inner_sound (suc room) = record {
  declarations = subst (λ (n : ℕ). Sound (listed_declarations n) (inner_at (suc room)).declarations) (less_one room) (declarations_in_sound room (inner_sound room));
  statements = subst (λ (n : ℕ). Sound (listed_statements n) (inner_at (suc room)).statements) (less_one room) (statements_in_sound room (inner_sound room));
}

pub statements_sound : (room : ℕ) → Sound (listed_statements room) (statements_at room)
unfolding statements_at
statements_sound room = statements_in_sound room (inner_sound room)

pub declarations_sound : (room : ℕ) → Sound (listed_declarations room) (declarations_at room)
unfolding declarations_at
declarations_sound room = declarations_in_sound room (inner_sound room)

-- ---- a unit

unit_parts : (clauses first name shows declarations start body end_name last : List Piece) → clauses ++ (first ++ name) ++ (shows ++ declarations) ++ (start ++ body) ++ end_name ++ last ≡ clauses ++ (first ++ (name ++ (shows ++ (declarations ++ ((start ++ body) ++ (end_name ++ last))))))
unit_parts clauses first name shows declarations start body end_name last = simp append_assoc

pub unit_sound : (room : ℕ) → Sound (unit_pieces room) (unit_at room)
unfolding unit_at
unit_sound room = mapped_sound (unit_pieces room) unit_from
    (both_sound clauses_sound (both_sound (placed_sound (reserved word.Procedure) refl) (both_sound identifier_sound (after_sound (reserved word.Is) refl
    (both_sound (declarations_sound room) (both_sound (begin_sound room (statements_sound room)) (both_sound end_name_sound end_sound)))))))
    (λ x able. unit_parts (flat_map clause_pieces x.0) (placed (reserved word.Procedure) x.1.0 ∷ []) (ident_pieces x.1.1.0) (anywhere (reserved word.Is) ∷ []) (listed_declarations room x.1.1.1.0)
    (placed (reserved word.Begin) (begin_of x.1.1.1.1.0) ∷ []) (sequence_pieces room x.1.1.1.1.0) (end_name_pieces x.1.1.1.1.1.0) ending_pieces)

-- ---- the end

ended_shrinks : {A : Type 0} (x : A) (ts : List Lexeme) → length (left_of (ended x ts)) ≤ length ts
ended_shrinks x [] = le_refl 0
ended_shrinks x (t ∷ ts) = le_refl (length (t ∷ ts))

ended_fate : {A : Type 0} (x : A) (u : List Lexeme) (t : Lexeme) → Fate (ended x) u t
ended_fate x [] t = failed [] (λ a. refl)
ended_fate x (y ∷ u) t = failed (y ∷ u) (λ a. refl)

-- No token behind the one where reading stops counts.
pub whole_plain : Plain whole_at
unfolding whole_at
whole_plain = continued_plain (unit_at deepest) ended (unit_sound deepest).plain (λ ts x rest e. record { shrinks = ended_shrinks x; fate = ended_fate x })
