-- What is written so is read so: the parts of declarations, and the declarations in which no other nests.
use Rattle.std.proofs.Common.{◌≡◌, ℕ, zero, suc, true, List, [], ◌∷◌, ◌++◌, Option, Some, None, refl, ap, append_assoc}
use Rattle.std.specs.List.{flat_map}
use Rattle.ada_text.specs.declared.spot.Spot.{Spot}
use Rattle.ada_text.specs.declared.word.Word.{Word}
use Rattle.ada_text.specs.declared.word.Word.TheVariants as word
use Rattle.ada_text.specs.declared.delimiter.Delimiter.TheVariants as mark
use Rattle.ada_text.specs.Token.{Kind, identifier, reserved, delimiter}
use Rattle.ada_tree.specs.Piece.{Piece, anywhere, placed, opening}
use Rattle.ada_tree.specs.Names.{Ident, NameTree, ident_pieces, part_pieces, name_pieces}
use Rattle.ada_tree.specs.Expressions.{RightTree, initial_pieces}
use Rattle.ada_tree.specs.Records.{StaticTree, RecordTree, record_pieces, null_record, null_components, components}
use Rattle.ada_tree.specs.Declarations.{SizeTree, number_size, named_size, AspectTree, FormalTree, ChoiceTree, named_choice, others_choice, ClauseTree, size_pieces, size_label_pieces, constraint_pieces, aspect_pieces, optional_word_pieces, formal_pieces, next_formal_pieces, choice_pieces, next_choice_pieces, choices_pieces, next_name_pieces, clause_pieces, end_name_pieces}
use Rattle.ada_tree.specs.Statements.{DeclarationTree, exception_declaration, constant_declaration, pool_declaration, object_declaration, borrower_declaration, incomplete_type, access_type, record_type, derived_type, attribute_clause, instance, ending_pieces, declaration_pieces}
use Rattle.ada_reader.specs.Step.{is_kind, at, after, all_of}
use Rattle.ada_phrases.specs.Expressions.{initial_at}
use Rattle.ada_phrases.specs.Declarations.{optional_fixed, end_name_at, next_name_at, clause_from, clause_at, clauses_at, choice_at, next_choice_at, cons_from, choices_at, number_size_from, size_at, labelled_size, bare_size, size_led, labelled_size_at, first_of_two, constraint_at, constant_from, borrower_from, pool_from, object_from, object_typed_at, object_named_at, object_at, aspect_from, aspect_at, optional_aspect_at, access_from, record_from, derived_from, definition_at, type_named_at, type_at, attribute_clause_from, attribute_clause_at, formal_from, formal_at, next_formal_at, formals_from, formals_at, Start, instance_from, actuals_at, instance_named_at, instance_at}
use Rattle.ada_parser.proofs.Complete.{Follow, any, unless, before, no_identifier, Leads, Complete, leads_first, leads_any, leads_same, leads_before, leads_through, leads_items, complete_as, weaken, never_complete, nothing_complete, mapped_complete, continued_complete, both_complete, choose_true, choose_false, placed_complete, after_complete, opened_complete, identifier_complete, number_complete, all_complete, while_items}
use Rattle.ada_parser.proofs.ExpressionTexts.{closing_complete, name_complete}
use Rattle.ada_parser.proofs.RecordTexts.{semicolon_complete, static_complete, record_complete}

-- ---- clauses and choices

next_name_complete : (n : NameTree) → Complete (next_name_pieces n) next_name_at n (unless (delimiter mark.Dot))
unfolding next_name_at
next_name_complete n = after_complete refl (name_complete n)

next_names_complete : (names : List NameTree) → Complete (flat_map next_name_pieces names) (all_of (at (delimiter mark.Comma)) next_name_at) names (before (delimiter mark.Semicolon))
next_names_complete = all_complete (while_items (delimiter mark.Comma) (λ x. refl) next_name_complete (λ x. leads_first refl) (λ x. leads_first refl) (leads_before (delimiter mark.Semicolon) refl) (leads_before (delimiter mark.Semicolon) refl))

next_names_lead : (names : List NameTree) → Leads (flat_map next_name_pieces names) (unless (delimiter mark.Dot)) (unless (delimiter mark.Dot))
next_names_lead = leads_items next_name_pieces (λ x. leads_first refl)

clause_complete : (c : ClauseTree) → Complete (clause_pieces c) clause_at c any
unfolding clause_at
clause_complete c = complete_as (mapped_complete clause_from (after_complete refl (both_complete (name_complete c.first)
    (both_complete (next_names_complete c.rest) semicolon_complete (leads_first refl))
    (leads_through (next_names_lead c.rest) (leads_first refl))))) (simp append_assoc)

pub clauses_complete : (cs : List ClauseTree) → Complete (flat_map clause_pieces cs) clauses_at cs (unless (reserved word.With))
unfolding clauses_at
clauses_complete = all_complete (while_items (reserved word.With) (λ x. refl) clause_complete (λ x. leads_first refl) (λ x. leads_any) leads_same leads_any)

pub end_name_complete : (n : Option Ident) → Complete (end_name_pieces n) end_name_at n no_identifier
unfolding end_name_at
end_name_complete None = choose_false (weaken (mapped_complete (λ _. None) nothing_complete)) leads_same
end_name_complete (Some i) = choose_true (weaken (mapped_complete Some (identifier_complete i))) (leads_first refl)

choice_complete : (c : ChoiceTree) → Complete (choice_pieces c) choice_at c (unless (delimiter mark.Dot))
unfolding choice_at
choice_complete (named_choice n) = choose_false (mapped_complete named_choice (name_complete n)) (leads_first refl)
choice_complete (others_choice spot) = choose_true (weaken (mapped_complete others_choice (placed_complete spot refl))) (leads_first refl)

next_choice_complete : (c : ChoiceTree) → Complete (next_choice_pieces c) next_choice_at c (unless (delimiter mark.Dot))
unfolding next_choice_at
next_choice_complete c = after_complete refl (choice_complete c)

next_choices_complete : (cs : List ChoiceTree) → Complete (flat_map next_choice_pieces cs) (all_of (at (delimiter mark.Bar)) next_choice_at) cs (before (delimiter mark.Arrow))
next_choices_complete = all_complete (while_items (delimiter mark.Bar) (λ x. refl) next_choice_complete (λ x. leads_first refl) (λ x. leads_first refl) (leads_before (delimiter mark.Arrow) refl) (leads_before (delimiter mark.Arrow) refl))

next_choices_lead : (cs : List ChoiceTree) → Leads (flat_map next_choice_pieces cs) (before (delimiter mark.Arrow)) (unless (delimiter mark.Dot))
next_choices_lead [] = leads_before (delimiter mark.Arrow) refl
next_choices_lead (c ∷ cs) = leads_first refl

pub choices_complete : (cs : List ChoiceTree) → Complete (choices_pieces cs) choices_at cs (before (delimiter mark.Arrow))
unfolding choices_at
choices_complete [] = never_complete []
choices_complete (c ∷ cs) = mapped_complete cons_from (both_complete (choice_complete c) (next_choices_complete cs) (next_choices_lead cs))

-- ---- sizes

size_complete : (s : SizeTree) → Complete (size_pieces s) size_at s any
unfolding size_at
size_complete (number_size spot n) = choose_false (mapped_complete number_size_from (number_complete n spot)) (leads_first refl)
size_complete (named_size i) = choose_true (mapped_complete named_size (identifier_complete i)) (leads_first refl)

labelled_size_complete : (label : Option Ident) (s : SizeTree) → Complete (size_label_pieces label ++ size_pieces s) labelled_size_at (label, s) (before (delimiter mark.RightParenthesis))
unfolding labelled_size_at size_led
labelled_size_complete None (number_size spot n) = choose_false (weaken (mapped_complete bare_size (size_complete (number_size spot n)))) (leads_first refl)
labelled_size_complete None (named_size i) = choose_true (continued_complete size_led (identifier_complete i)
    (choose_false (weaken (mapped_complete (λ _. (None, named_size i)) nothing_complete)) (leads_before (delimiter mark.RightParenthesis) refl)) leads_any) (leads_first refl)
labelled_size_complete (Some label) s = choose_true (continued_complete size_led (identifier_complete label)
    (choose_true (weaken (mapped_complete (labelled_size label) (after_complete refl (size_complete s)))) (leads_first refl)) leads_any) (leads_first refl)

constraint_complete : (room : ℕ) (label : Option Ident) (s : SizeTree) → Complete (constraint_pieces room label s) (constraint_at room) (label, s) any
unfolding constraint_at
constraint_complete room label s = complete_as (opened_complete room (delimiter mark.LeftParenthesis) refl
    (λ less e. mapped_complete first_of_two (both_complete (labelled_size_complete label s) closing_complete (leads_first refl)))) (simp append_assoc)

-- ---- types and clauses

aspect_complete : (a : AspectTree) → Complete (aspect_pieces (Some a)) aspect_at a any
unfolding aspect_at
aspect_complete a = mapped_complete aspect_from (both_complete (placed_complete a.spot refl) (both_complete (identifier_complete a.name)
    (after_complete refl (identifier_complete a.value)) leads_any) leads_any)

optional_aspect_complete : (a : Option AspectTree) → Complete (aspect_pieces a) optional_aspect_at a (unless (reserved word.With))
unfolding optional_aspect_at
optional_aspect_complete None = choose_false (weaken (mapped_complete (λ _. None) nothing_complete)) leads_same
optional_aspect_complete (Some a) = choose_true (weaken (mapped_complete Some (aspect_complete a))) (leads_first refl)

record_leads : {f : Follow} (r : RecordTree) (ps : List Piece) → f.test (reserved word.Null) ≡ f.value → f.test (reserved word.Record) ≡ f.value → Leads (record_pieces r ++ ps) any f
record_leads null_record ps a b = leads_first a
record_leads null_components ps a b = leads_first b
record_leads (components first rest) ps a b = leads_first b

type_complete : (d : DeclarationTree) (spot : Spot) (name : Ident) (ps : List Piece) → Complete ps (type_named_at spot name) d any → Complete ((placed (reserved word.«Type») spot ∷ ident_pieces name) ++ ps) type_at d any
unfolding type_at
type_complete d spot name ps c = continued_complete (λ x. type_named_at x.0 x.1) (both_complete (placed_complete spot refl) (identifier_complete name) leads_any) c leads_any

incomplete_complete : (spot : Spot) (name : Ident) → Complete (anywhere (delimiter mark.Semicolon) ∷ []) (type_named_at spot name) (incomplete_type spot name) any
unfolding type_named_at
incomplete_complete spot name = choose_true (mapped_complete (λ _. incomplete_type spot name) semicolon_complete) (leads_first refl)

access_complete : (spot : Spot) (name designated : Ident) (aspect : Option AspectTree) → Complete (anywhere (reserved word.Is) ∷ anywhere (reserved word.Access) ∷ (ident_pieces designated ++ (aspect_pieces aspect ++ anywhere (delimiter mark.Semicolon) ∷ []))) (type_named_at spot name) (access_type spot name designated aspect) any
unfolding type_named_at definition_at
access_complete spot name designated aspect = choose_false (after_complete refl (choose_true (mapped_complete (access_from spot name)
    (after_complete refl (both_complete (identifier_complete designated) (both_complete (optional_aspect_complete aspect) semicolon_complete (leads_first refl)) leads_any))) (leads_first refl))) (leads_first refl)

record_type_complete : (spot : Spot) (name : Ident) (r : RecordTree) → Complete (anywhere (reserved word.Is) ∷ (record_pieces r ++ anywhere (delimiter mark.Semicolon) ∷ [])) (type_named_at spot name) (record_type spot name r) any
unfolding type_named_at definition_at
record_type_complete spot name r = choose_false (after_complete refl (choose_false (choose_false (mapped_complete (record_from spot name)
    (both_complete (record_complete r) semicolon_complete leads_any))
    (record_leads r (anywhere (delimiter mark.Semicolon) ∷ []) refl refl)) (record_leads r (anywhere (delimiter mark.Semicolon) ∷ []) refl refl))) (leads_first refl)

derived_complete : (spot : Spot) (name : Ident) (parent : NameTree) (r : RecordTree) → Complete (anywhere (reserved word.Is) ∷ anywhere (reserved word.New) ∷ (name_pieces parent ++ (anywhere (reserved word.With) ∷ (record_pieces r ++ anywhere (delimiter mark.Semicolon) ∷ [])))) (type_named_at spot name) (derived_type spot name parent r) any
unfolding type_named_at definition_at
derived_complete spot name parent r = choose_false (after_complete refl (choose_false (choose_true (mapped_complete (derived_from spot name)
    (after_complete refl (both_complete (name_complete parent) (after_complete refl (both_complete (record_complete r) semicolon_complete leads_any)) (leads_first refl)))) (leads_first refl)) (leads_first refl))) (leads_first refl)

pub incomplete_type_complete : (room : ℕ) (spot : Spot) (name : Ident) → Complete (declaration_pieces room (incomplete_type spot name)) type_at (incomplete_type spot name) any
incomplete_type_complete room spot name = type_complete _ spot name _ (incomplete_complete spot name)

pub access_type_complete : (room : ℕ) (spot : Spot) (name designated : Ident) (aspect : Option AspectTree) → Complete (declaration_pieces room (access_type spot name designated aspect)) type_at (access_type spot name designated aspect) any
access_type_complete room spot name designated aspect = complete_as (type_complete _ spot name _ (access_complete spot name designated aspect)) (simp append_assoc)

pub record_definition_complete : (room : ℕ) (spot : Spot) (name : Ident) (r : RecordTree) → Complete (declaration_pieces room (record_type spot name r)) type_at (record_type spot name r) any
record_definition_complete room spot name r = complete_as (type_complete _ spot name _ (record_type_complete spot name r)) (simp append_assoc)

pub derived_type_complete : (room : ℕ) (spot : Spot) (name : Ident) (parent : NameTree) (r : RecordTree) → Complete (declaration_pieces room (derived_type spot name parent r)) type_at (derived_type spot name parent r) any
derived_type_complete room spot name parent r = complete_as (type_complete _ spot name _ (derived_complete spot name parent r)) (simp append_assoc)

pub attribute_clause_complete : (room : ℕ) (spot : Spot) (name attribute : Ident) (value : SizeTree) → Complete (declaration_pieces room (attribute_clause spot name attribute value)) attribute_clause_at (attribute_clause spot name attribute value) any
unfolding attribute_clause_at
attribute_clause_complete room spot name attribute value = complete_as (mapped_complete attribute_clause_from (both_complete (placed_complete spot refl)
    (both_complete (identifier_complete name) (after_complete refl (both_complete (identifier_complete attribute) (after_complete refl
    (both_complete (size_complete value) semicolon_complete leads_any)) leads_any)) leads_any) leads_any)) (simp append_assoc)

-- ---- objects

-- A value behind `:=`, or nothing, before a `;`.
abbrev pub Initials : ℕ → Type 0
Initials room = (v : Option RightTree) → Complete (initial_pieces room v) (initial_at room) v (before (delimiter mark.Semicolon))

initial_leads : {f : Follow} (room : ℕ) (v : Option RightTree) → f.test (delimiter mark.Semicolon) ≡ f.value → f.test (delimiter mark.Assign) ≡ f.value → Leads (initial_pieces room v ++ anywhere (delimiter mark.Semicolon) ∷ []) any f
initial_leads room None a b = leads_first a
initial_leads room (Some r) a b = leads_first b

-- the token that opens a level, wherever it stands
pub leads_open : {ps : List Piece} {g f : Follow} (k : Kind) (room : ℕ) → f.test k ≡ f.value → Leads (opening room k ∷ ps) g f
leads_open k zero e = leads_first e
leads_open k (suc room) e = leads_first e

named_complete : (room : ℕ) (d : DeclarationTree) (name : Ident) (ps : List Piece) → Complete ps (object_named_at room name) d any → Complete (ident_pieces name ++ (anywhere (delimiter mark.Colon) ∷ ps)) (object_at room) d any
unfolding object_at
named_complete room d name ps c = continued_complete (λ name. after (delimiter mark.Colon) (object_named_at room name)) (identifier_complete name) (after_complete refl c) leads_any

pub exception_complete : (room : ℕ) (name : Ident) → Complete (declaration_pieces room (exception_declaration name)) (object_at room) (exception_declaration name) any
unfolding object_named_at
exception_complete room name = named_complete room _ name _ (choose_true (mapped_complete (λ _. exception_declaration name) (after_complete refl semicolon_complete)) (leads_first refl))

pub constant_complete : (room : ℕ) (name : Ident) (value : StaticTree) → Complete (declaration_pieces room (constant_declaration name value)) (object_at room) (constant_declaration name value) any
unfolding object_named_at
constant_complete room name value = complete_as (named_complete room _ name _ (choose_false (choose_true (mapped_complete (constant_from name)
    (after_complete refl (after_complete refl (both_complete (static_complete value) semicolon_complete leads_any)))) (leads_first refl)) (leads_first refl))) (simp append_assoc)

pub borrower_complete : (room : ℕ) → Initials room → (name designated : Ident) (initial : Option RightTree) → Complete (declaration_pieces room (borrower_declaration name designated initial)) (object_at room) (borrower_declaration name designated initial) any
unfolding object_named_at
borrower_complete room initials name designated initial = complete_as (named_complete room _ name _ (choose_false (choose_false (choose_true (mapped_complete (borrower_from name)
    (after_complete refl (both_complete (identifier_complete designated) (both_complete (initials initial) semicolon_complete (leads_first refl)) leads_any)))
    (leads_first refl)) (leads_first refl)) (leads_first refl))) (simp append_assoc)

typed_complete : (room : ℕ) (d : DeclarationTree) (name : Ident) (type_name : NameTree) (ps : List Piece) → Complete ps (object_typed_at room name type_name) d any → Leads ps any (unless (delimiter mark.Dot)) → Complete (ident_pieces name ++ (anywhere (delimiter mark.Colon) ∷ (name_pieces type_name ++ ps))) (object_at room) d any
unfolding object_named_at
typed_complete room d name type_name ps c l = named_complete room d name _ (choose_false (choose_false (choose_false
    (continued_complete (object_typed_at room name) (name_complete type_name) c l) (leads_first refl)) (leads_first refl)) (leads_first refl))

pub pool_complete : (room : ℕ) (name : Ident) (type_name : NameTree) (label : Option Ident) (size : SizeTree) → Complete (declaration_pieces room (pool_declaration name type_name label size)) (object_at room) (pool_declaration name type_name label size) any
unfolding object_typed_at
pool_complete room name type_name label size = complete_as (typed_complete room _ name type_name _ (choose_true (mapped_complete (pool_from name type_name)
    (both_complete (constraint_complete room label size) semicolon_complete leads_any)) (leads_open (delimiter mark.LeftParenthesis) room refl)) (leads_open (delimiter mark.LeftParenthesis) room refl))
    (ap (λ (us : List Piece). (ident_pieces name ++ anywhere (delimiter mark.Colon) ∷ ident_pieces type_name.first) ++ us) (append_assoc (flat_map part_pieces type_name.rest) (constraint_pieces room label size) ending_pieces))

pub object_complete : (room : ℕ) → Initials room → (name : Ident) (type_name : NameTree) (initial : Option RightTree) → Complete (declaration_pieces room (object_declaration name type_name initial)) (object_at room) (object_declaration name type_name initial) any
unfolding object_typed_at
object_complete room initials name type_name initial = complete_as (typed_complete room _ name type_name _ (choose_false (mapped_complete (object_from name type_name)
    (both_complete (initials initial) semicolon_complete (leads_first refl))) (initial_leads room initial refl refl)) (initial_leads room initial refl refl)) (simp append_assoc)

-- ---- formals and instances

-- a word where it is written
pub optional_complete : (w : Word) (spot : Option Spot) → is_kind (reserved w) (reserved w) ≡ true → Complete (optional_word_pieces w spot) (optional_fixed (reserved w)) spot (unless (reserved w))
optional_complete w None e = choose_false (weaken (mapped_complete (λ _. None) nothing_complete)) leads_same
optional_complete w (Some spot) e = choose_true (weaken (mapped_complete Some (placed_complete spot e))) (leads_first e)

optional_leads : {f g : Follow} (w : Word) (spot : Option Spot) (i : Ident) → f.test (reserved w) ≡ f.value → f.test (identifier i.text) ≡ f.value → Leads (optional_word_pieces w spot ++ ident_pieces i) g f
optional_leads w None i a b = leads_first b
optional_leads w (Some spot) i a b = leads_first a

formal_complete : (x : FormalTree) → Complete (formal_pieces x) formal_at x any
unfolding formal_at
formal_complete x = complete_as (mapped_complete formal_from (both_complete (identifier_complete x.name) (after_complete refl
    (both_complete (optional_complete word.«In» x.input refl) (both_complete (optional_complete word.Out x.output refl) (identifier_complete x.type_name) (leads_first refl))
    (optional_leads word.Out x.output x.type_name refl refl))) leads_any)) (simp append_assoc)

next_formal_complete : (x : FormalTree) → Complete (next_formal_pieces x) next_formal_at x any
unfolding next_formal_at
next_formal_complete x = after_complete refl (formal_complete x)

next_formals_complete : (xs : List FormalTree) → Complete (flat_map next_formal_pieces xs) (all_of (at (delimiter mark.Semicolon)) next_formal_at) xs (unless (delimiter mark.Semicolon))
next_formals_complete = all_complete (while_items (delimiter mark.Semicolon) (λ x. refl) next_formal_complete (λ x. leads_first refl) (λ x. leads_any) leads_same leads_any)

-- what stands behind the parenthesis
pub formals_complete : (x : FormalTree) (xs : List FormalTree) → Complete (formal_pieces x ++ (flat_map next_formal_pieces xs ++ anywhere (delimiter mark.RightParenthesis) ∷ [])) formals_at (x ∷ xs) any
unfolding formals_at
formals_complete x xs = mapped_complete formals_from (both_complete (formal_complete x) (both_complete (next_formals_complete xs) closing_complete (leads_first refl)) leads_any)

actuals_complete : (room : ℕ) (designated access : Ident) → Complete (opening room (delimiter mark.LeftParenthesis) ∷ (ident_pieces designated ++ (anywhere (delimiter mark.Comma) ∷ (ident_pieces access ++ anywhere (delimiter mark.RightParenthesis) ∷ [])))) (actuals_at room) (designated, (access, tt)) any
unfolding actuals_at
actuals_complete room designated access = opened_complete room (delimiter mark.LeftParenthesis) refl
    (λ less e. both_complete (identifier_complete designated) (after_complete refl (both_complete (identifier_complete access) closing_complete leads_any)) leads_any)

-- what stands behind the `is` of an instance
pub instance_complete : (room : ℕ) (s : Start) (generic : NameTree) (designated access : Ident) → Complete (anywhere (reserved word.New) ∷ (name_pieces generic ++ ((opening room (delimiter mark.LeftParenthesis) ∷ (ident_pieces designated ++ (anywhere (delimiter mark.Comma) ∷ (ident_pieces access ++ anywhere (delimiter mark.RightParenthesis) ∷ [])))) ++ anywhere (delimiter mark.Semicolon) ∷ []))) (instance_at room s) (instance s.spot s.name generic designated access) any
unfolding instance_at instance_named_at
instance_complete room s generic designated access = after_complete refl (continued_complete (instance_named_at room s) (name_complete generic)
    (mapped_complete (instance_from s generic) (both_complete (actuals_complete room designated access) semicolon_complete leads_any)) (leads_open (delimiter mark.LeftParenthesis) room refl))
