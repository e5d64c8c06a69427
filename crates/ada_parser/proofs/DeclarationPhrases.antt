-- What is read is written so: the parts of declarations, and the declarations in which no other nests.
use Rattle.std.proofs.Common.{◌≡◌, ℕ, List, [], ◌∷◌, ◌++◌, Option, Some, None, refl, append_assoc}
use Rattle.std.specs.List.{flat_map}
use Rattle.ada_text.specs.declared.spot.Spot.{Spot}
use Rattle.ada_text.specs.declared.word.Word.{Word}
use Rattle.ada_text.specs.declared.word.Word.TheVariants as word
use Rattle.ada_text.specs.declared.delimiter.Delimiter.TheVariants as mark
use Rattle.ada_text.specs.Token.{identifier, reserved, delimiter}
use Rattle.ada_tree.specs.Piece.{Piece, anywhere, placed, never, opening}
use Rattle.ada_tree.specs.Names.{Ident, NameTree, ident_pieces, name_pieces}
use Rattle.ada_tree.specs.Declarations.{SizeTree, named_size, AspectTree, FormalTree, named_choice, others_choice, size_pieces, size_label_pieces, constraint_pieces, aspect_pieces, optional_word_pieces, formal_pieces, next_formal_pieces, formals_pieces, specification_pieces, choice_pieces, next_choice_pieces, choices_pieces, next_name_pieces, clause_pieces, end_name_pieces}
use Rattle.ada_tree.specs.Statements.{exception_declaration, incomplete_type, specification, declaration_pieces, ending_pieces}
use Rattle.ada_reader.specs.Step.{is_identifier, is_at, at}
use Rattle.ada_phrases.specs.Declarations.{end_at, optional_fixed, end_name_at, next_name_at, clause_from, clause_at, clauses_at, choice_at, next_choice_at, cons_from, choices_at, number_size_from, size_at, labelled_size, bare_size, size_led, labelled_size_at, first_of_two, constraint_at, constant_from, borrower_from, pool_from, object_from, object_typed_at, object_named_at, object_at, aspect_from, aspect_at, optional_aspect_at, access_from, record_from, derived_from, definition_at, type_named_at, type_at, attribute_clause_from, attribute_clause_at, formal_from, formal_at, next_formal_at, formals_from, formals_at, Start, start_from, start_at, head_from, instance_from, actuals_at, instance_named_at, instance_at}
use Rattle.ada_phrases.specs.Statements.{specification_at}
use Rattle.ada_parser.proofs.Sound.{Able, Sound, Goes, nothing_sound, mapped_goes, mapped_sound, continued_goes, continued_sound, both_sound, choose_goes, choose_sound, sound_as, all_sound, IsOther, placed_sound, after_goes, after_sound, identifier_sound, number_sound, opened_sound, goes_of, Anew, anew_after, anew_mapped, choose_anew}
use Rattle.ada_parser.proofs.ExpressionPhrases.{name_sound}
use Rattle.ada_parser.proofs.RightPhrases.{initial_sound}
use Rattle.ada_parser.proofs.RecordPhrases.{static_sound, record_sound}

pub end_sound : Sound (λ _. ending_pieces) end_at
end_sound = after_sound (delimiter mark.Semicolon) refl nothing_sound

optional_word_sound : (w : Word) → IsOther (reserved w) → Sound (optional_word_pieces w) (optional_fixed (reserved w))
optional_word_sound w other = choose_sound (optional_word_pieces w) (at (reserved w)) _ _ (λ t ts us. refl)
    (mapped_sound (optional_word_pieces w) Some (placed_sound (reserved w) other) (λ x able. refl))
    (mapped_sound (optional_word_pieces w) (λ _. None) nothing_sound (λ x able. refl))

pub end_name_sound : Sound end_name_pieces end_name_at
unfolding end_name_at
end_name_sound = choose_sound end_name_pieces (is_at is_identifier) _ _ (λ t ts us. refl)
    (mapped_sound end_name_pieces Some identifier_sound (λ x able. refl))
    (mapped_sound end_name_pieces (λ _. None) nothing_sound (λ x able. refl))

-- ---- clauses

next_name_sound : Sound next_name_pieces next_name_at
unfolding next_name_at
next_name_sound = after_sound (delimiter mark.Comma) refl name_sound

clause_sound : Sound clause_pieces clause_at
unfolding clause_at
clause_sound = mapped_sound clause_pieces clause_from
    (after_sound (reserved word.With) refl (both_sound name_sound
    (both_sound (all_sound (at (delimiter mark.Comma)) (λ t ts us. refl) (λ x able. refl) next_name_sound) end_sound)))
    (λ x able. simp append_assoc)

pub clauses_sound : Sound (flat_map clause_pieces) clauses_at
unfolding clauses_at
clauses_sound = all_sound (at (reserved word.With)) (λ t ts us. refl) (λ x able. refl) clause_sound

-- ---- choices

choice_sound : Sound choice_pieces choice_at
unfolding choice_at
choice_sound = choose_sound choice_pieces (at (reserved word.Others)) _ _ (λ t ts us. refl)
    (mapped_sound choice_pieces others_choice (placed_sound (reserved word.Others) refl) (λ x able. refl))
    (mapped_sound choice_pieces named_choice name_sound (λ x able. refl))

next_choice_sound : Sound next_choice_pieces next_choice_at
unfolding next_choice_at
next_choice_sound = after_sound (delimiter mark.Bar) refl choice_sound

pub choices_sound : Sound choices_pieces choices_at
unfolding choices_at
choices_sound = mapped_sound choices_pieces cons_from
    (both_sound choice_sound (all_sound (at (delimiter mark.Bar)) (λ t ts us. refl) (λ x able. refl) next_choice_sound))
    (λ x able. refl)

-- ---- sizes

size_sound : Sound size_pieces size_at
unfolding size_at
size_sound = choose_sound size_pieces (is_at is_identifier) _ _ (λ t ts us. refl)
    (mapped_sound size_pieces named_size identifier_sound (λ x able. refl))
    (mapped_sound size_pieces number_size_from number_sound (λ x able. refl))

abbrev labelled_pieces : Option Ident × SizeTree → List Piece
labelled_pieces x = size_label_pieces x.0 ++ size_pieces x.1

size_led_goes : (first : Ident) → Goes (ident_pieces first) labelled_pieces (size_led first)
unfolding size_led
size_led_goes first = choose_goes (ident_pieces first) labelled_pieces (at (delimiter mark.Arrow)) _ _ (λ t ts us. refl)
    (mapped_goes (ident_pieces first) labelled_pieces (labelled_size first) (after_sound (delimiter mark.Arrow) refl size_sound) (λ x able. refl))
    (mapped_goes (ident_pieces first) labelled_pieces (λ _. (None, named_size first)) nothing_sound (λ x able. refl))

labelled_size_sound : Sound labelled_pieces labelled_size_at
unfolding labelled_size_at
labelled_size_sound = choose_sound labelled_pieces (is_at is_identifier) _ _ (λ t ts us. refl)
    (continued_sound labelled_pieces size_led identifier_sound (λ i able. size_led_goes i))
    (mapped_sound labelled_pieces bare_size size_sound (λ x able. refl))

abbrev inside_constraint_pieces : Option Ident × SizeTree → List Piece
inside_constraint_pieces x = labelled_pieces x ++ anywhere (delimiter mark.RightParenthesis) ∷ []

constraint_sound : (room : ℕ) → Sound (λ (x : Option Ident × SizeTree). constraint_pieces room x.0 x.1) (constraint_at room)
unfolding constraint_at
constraint_sound room = sound_as (λ (x : Option Ident × SizeTree). constraint_pieces room x.0 x.1)
    (opened_sound room (delimiter mark.LeftParenthesis) refl
    (mapped_sound inside_constraint_pieces first_of_two (both_sound labelled_size_sound (after_sound (delimiter mark.RightParenthesis) refl nothing_sound)) (λ x able. refl)))
    (λ x able. simp append_assoc)

-- ---- objects

-- `X :`
abbrev object_front : Ident → List Piece
object_front name = ident_pieces name ++ anywhere (delimiter mark.Colon) ∷ []

typed_parts : (name type_name tail last : List Piece) (colon : Piece) → name ++ colon ∷ type_name ++ tail ++ last ≡ ((name ++ colon ∷ []) ++ type_name) ++ (tail ++ last)
typed_parts name type_name tail last colon = simp append_assoc

object_typed_goes : (room : ℕ) (name : Ident) (type_name : NameTree) → Goes (object_front name ++ name_pieces type_name) (declaration_pieces room) (object_typed_at room name type_name)
unfolding object_typed_at
object_typed_goes room name type_name =
    choose_goes (object_front name ++ name_pieces type_name) (declaration_pieces room) (at (delimiter mark.LeftParenthesis)) _ _ (λ t ts us. refl)
    (mapped_goes (object_front name ++ name_pieces type_name) (declaration_pieces room) (pool_from name type_name) (both_sound (constraint_sound room) end_sound)
    (λ x able. typed_parts (ident_pieces name) (name_pieces type_name) (constraint_pieces room x.0.0 x.0.1) ending_pieces (anywhere (delimiter mark.Colon))))
    (mapped_goes (object_front name ++ name_pieces type_name) (declaration_pieces room) (object_from name type_name) (both_sound (initial_sound room) end_sound) (λ x able. simp append_assoc))

object_named_goes : (room : ℕ) (name : Ident) → Goes (object_front name) (declaration_pieces room) (object_named_at room name)
unfolding object_named_at
object_named_goes room name =
    choose_goes (object_front name) (declaration_pieces room) (at (reserved word.Exception)) _ _ (λ t ts us. refl)
    (mapped_goes (object_front name) (declaration_pieces room) (λ _. exception_declaration name) (after_sound (reserved word.Exception) refl end_sound) (λ x able. refl))
    (choose_goes (object_front name) (declaration_pieces room) (at (reserved word.Constant)) _ _ (λ t ts us. refl)
    (mapped_goes (object_front name) (declaration_pieces room) (constant_from name)
    (after_sound (reserved word.Constant) refl (after_sound (delimiter mark.Assign) refl (both_sound static_sound end_sound))) (λ x able. simp append_assoc))
    (choose_goes (object_front name) (declaration_pieces room) (at (reserved word.Access)) _ _ (λ t ts us. refl)
    (mapped_goes (object_front name) (declaration_pieces room) (borrower_from name)
    (after_sound (reserved word.Access) refl (both_sound identifier_sound (both_sound (initial_sound room) end_sound))) (λ x able. simp append_assoc))
    (continued_goes (object_front name) (declaration_pieces room) (object_typed_at room name) name_sound (λ n able. object_typed_goes room name n))))

pub object_sound : (room : ℕ) → Sound (declaration_pieces room) (object_at room)
unfolding object_at
object_sound room = continued_sound (declaration_pieces room) _ identifier_sound
    (λ name able. after_goes (ident_pieces name) (declaration_pieces room) (delimiter mark.Colon) _ refl (object_named_goes room name))

-- ---- types

abbrev written_aspect_pieces : AspectTree → List Piece
written_aspect_pieces a = aspect_pieces (Some a)

aspect_sound : Sound written_aspect_pieces aspect_at
unfolding aspect_at
aspect_sound = mapped_sound written_aspect_pieces aspect_from
    (both_sound (placed_sound (reserved word.With) refl) (both_sound identifier_sound (after_sound (delimiter mark.Arrow) refl identifier_sound)))
    (λ x able. refl)

optional_aspect_sound : Sound aspect_pieces optional_aspect_at
unfolding optional_aspect_at
optional_aspect_sound = choose_sound aspect_pieces (at (reserved word.With)) _ _ (λ t ts us. refl)
    (mapped_sound aspect_pieces Some aspect_sound (λ x able. refl))
    (mapped_sound aspect_pieces (λ _. None) nothing_sound (λ x able. refl))

-- `type T`
abbrev type_front : Spot × Ident → List Piece
type_front x = placed (reserved word.«Type») x.0 ∷ ident_pieces x.1

-- `type T is`
abbrev is_front : Spot → Ident → List Piece
is_front spot name = type_front (spot, name) ++ anywhere (reserved word.Is) ∷ []

definition_goes : (room : ℕ) (spot : Spot) (name : Ident) → Goes (is_front spot name) (declaration_pieces room) (definition_at spot name)
unfolding definition_at
definition_goes room spot name =
    choose_goes (is_front spot name) (declaration_pieces room) (at (reserved word.Access)) _ _ (λ t ts us. refl)
    (mapped_goes (is_front spot name) (declaration_pieces room) (access_from spot name)
    (after_sound (reserved word.Access) refl (both_sound identifier_sound (both_sound optional_aspect_sound end_sound))) (λ x able. simp append_assoc))
    (choose_anew (is_front spot name) (declaration_pieces room) _ _
    (anew_mapped (is_front spot name) (declaration_pieces room) (derived_from spot name)
    (anew_after [] _ _ (goes_of (anywhere (reserved word.New) ∷ []) (both_sound name_sound (after_sound (reserved word.With) refl (both_sound record_sound end_sound))))) (λ x able. simp append_assoc))
    (mapped_goes (is_front spot name) (declaration_pieces room) (record_from spot name) (both_sound record_sound end_sound) (λ x able. simp append_assoc)))

type_named_goes : (room : ℕ) (spot : Spot) (name : Ident) → Goes (type_front (spot, name)) (declaration_pieces room) (type_named_at spot name)
unfolding type_named_at
type_named_goes room spot name =
    choose_goes (type_front (spot, name)) (declaration_pieces room) (at (delimiter mark.Semicolon)) _ _ (λ t ts us. refl)
    (mapped_goes (type_front (spot, name)) (declaration_pieces room) (λ _. incomplete_type spot name) end_sound (λ x able. refl))
    (after_goes (type_front (spot, name)) (declaration_pieces room) (reserved word.Is) _ refl (definition_goes room spot name))

pub type_sound : (room : ℕ) → Sound (declaration_pieces room) type_at
unfolding type_at
type_sound room = continued_sound (declaration_pieces room) _ (both_sound (placed_sound (reserved word.«Type») refl) identifier_sound)
    (λ x able. type_named_goes room x.0 x.1)

pub attribute_clause_sound : (room : ℕ) → Sound (declaration_pieces room) attribute_clause_at
unfolding attribute_clause_at
attribute_clause_sound room = mapped_sound (declaration_pieces room) attribute_clause_from
    (both_sound (placed_sound (reserved word.For) refl) (both_sound identifier_sound (after_sound (delimiter mark.Tick) refl
    (both_sound identifier_sound (after_sound (reserved word.Use) refl (both_sound size_sound end_sound))))))
    (λ x able. simp append_assoc)

-- ---- heads of procedures

formal_sound : Sound formal_pieces formal_at
unfolding formal_at
formal_sound = mapped_sound formal_pieces formal_from
    (both_sound identifier_sound (after_sound (delimiter mark.Colon) refl
    (both_sound (optional_word_sound word.«In» refl) (both_sound (optional_word_sound word.Out refl) identifier_sound))))
    (λ x able. simp append_assoc)

next_formal_sound : Sound next_formal_pieces next_formal_at
unfolding next_formal_at
next_formal_sound = after_sound (delimiter mark.Semicolon) refl formal_sound

-- what stands behind the `(` of formals
abbrev pub inside_formals_pieces : List FormalTree → List Piece
inside_formals_pieces [] = never ∷ []
inside_formals_pieces (f ∷ fs) = formal_pieces f ++ (flat_map next_formal_pieces fs ++ anywhere (delimiter mark.RightParenthesis) ∷ [])

pub formals_sound : Sound inside_formals_pieces formals_at
unfolding formals_at
formals_sound = mapped_sound inside_formals_pieces formals_from
    (both_sound formal_sound (both_sound (all_sound (at (delimiter mark.Semicolon)) (λ t ts us. refl) (λ x able. refl) next_formal_sound)
    (after_sound (delimiter mark.RightParenthesis) refl nothing_sound)))
    (λ x able. refl)

opened_formals : (opened formal more close : List Piece) → opened ++ formal ++ more ++ close ≡ opened ++ (formal ++ (more ++ close))
opened_formals opened formal more close = simp append_assoc

-- Formals are written with their parenthesis, and what stands behind it.
pub formals_are : (room : ℕ) (fs : List FormalTree) → Able (inside_formals_pieces fs) → formals_pieces room fs ≡ opening room (delimiter mark.LeftParenthesis) ∷ inside_formals_pieces fs
formals_are room [] able = absurd able.0
formals_are room (f ∷ fs) able = opened_formals (opening room (delimiter mark.LeftParenthesis) ∷ []) (formal_pieces f) (flat_map next_formal_pieces fs) (anywhere (delimiter mark.RightParenthesis) ∷ [])

-- `overriding procedure P`
abbrev pub start_pieces : Start → List Piece
start_pieces s = optional_word_pieces word.Overriding s.overriding ++ placed (reserved word.Procedure) s.spot ∷ ident_pieces s.name

pub start_sound : Sound start_pieces start_at
unfolding start_at
start_sound = mapped_sound start_pieces start_from
    (both_sound (optional_word_sound word.Overriding refl) (both_sound (placed_sound (reserved word.Procedure) refl) identifier_sound))
    (λ x able. refl)

-- ---- instances

abbrev inside_actuals_pieces : Ident × (Ident × Unit {0}) → List Piece
inside_actuals_pieces x = ident_pieces x.0 ++ anywhere (delimiter mark.Comma) ∷ (ident_pieces x.1.0 ++ anywhere (delimiter mark.RightParenthesis) ∷ [])

abbrev actuals_pieces : ℕ → Ident × (Ident × Unit {0}) → List Piece
actuals_pieces room x = opening room (delimiter mark.LeftParenthesis) ∷ inside_actuals_pieces x

actuals_sound : (room : ℕ) → Sound (actuals_pieces room) (actuals_at room)
unfolding actuals_at
actuals_sound room = opened_sound room (delimiter mark.LeftParenthesis) refl
    (sound_as inside_actuals_pieces (both_sound identifier_sound (after_sound (delimiter mark.Comma) refl
    (both_sound identifier_sound (after_sound (delimiter mark.RightParenthesis) refl nothing_sound))))
    (λ x able. refl))

-- `procedure P is`
abbrev pub instance_front : Spot → Ident → List Piece
instance_front spot name = placed (reserved word.Procedure) spot ∷ placed (identifier name.text) name.spot ∷ anywhere (reserved word.Is) ∷ []

instance_parts : (front generic first second last : List Piece) (opened comma close : Piece) → front ++ generic ++ opened ∷ first ++ comma ∷ second ++ close ∷ last ≡ (front ++ generic) ++ ((opened ∷ (first ++ comma ∷ (second ++ close ∷ []))) ++ last)
instance_parts front generic first second last opened comma close = simp append_assoc

instance_named_goes : (room : ℕ) (s : Start) (generic : NameTree) → Goes ((instance_front s.spot s.name ++ anywhere (reserved word.New) ∷ []) ++ name_pieces generic) (declaration_pieces room) (instance_named_at room s generic)
unfolding instance_named_at
instance_named_goes room s generic =
    mapped_goes ((instance_front s.spot s.name ++ anywhere (reserved word.New) ∷ []) ++ name_pieces generic) (declaration_pieces room) (instance_from s generic)
    (both_sound (actuals_sound room) end_sound)
    (λ x able. instance_parts (instance_front s.spot s.name ++ anywhere (reserved word.New) ∷ []) (name_pieces generic) (ident_pieces x.0.0) (ident_pieces x.0.1.0) ending_pieces (opening room (delimiter mark.LeftParenthesis)) (anywhere (delimiter mark.Comma)) (anywhere (delimiter mark.RightParenthesis)))

pub instance_anew : (room : ℕ) (s : Start) → Anew (instance_front s.spot s.name) (declaration_pieces room) (instance_at room s)
unfolding instance_at
instance_anew room s =
    anew_after (instance_front s.spot s.name) (declaration_pieces room) _
    (continued_goes (instance_front s.spot s.name ++ anywhere (reserved word.New) ∷ []) (declaration_pieces room) (instance_named_at room s) name_sound
    (λ generic able. instance_named_goes room s generic))

pub specification_goes : (room : ℕ) (s : Start) (fs : List FormalTree) → Goes (specification_pieces room (head_from s fs)) (declaration_pieces room) (specification_at (head_from s fs))
specification_goes room s fs = mapped_goes (specification_pieces room (head_from s fs)) (declaration_pieces room) (λ _. specification (head_from s fs)) end_sound (λ x able. refl)
