-- What is written so is read so: procedures, and declarations of what stands inside one level of nesting.
use Rattle.std.proofs.Common.{◌≡◌, ℕ, zero, suc, Bool, true, false, ◌||◌, List, [], ◌∷◌, ◌++◌, Option, Some, None, Ok, Err, refl, sym, ap, subst, ◌∙◌, append_assoc}
use Rattle.std.specs.Prelude.{◌-◌}
use Rattle.std.specs.List.{flat_map}
use Rattle.std.proofs.lemmas.List.Concat.{flat_map-cons}
use Rattle.ada_text.specs.declared.spot.Spot.{Spot}
use Rattle.ada_text.specs.declared.word.Word.{Word}
use Rattle.ada_text.specs.declared.word.Word.TheVariants as word
use Rattle.ada_text.specs.declared.delimiter.Delimiter.TheVariants as mark
use Rattle.ada_text.specs.Token.{Kind, identifier, reserved, delimiter, Lexeme}
use Rattle.ada_tree.specs.Piece.{Piece, anywhere, placed, deep, never, opening, Spelled}
use Rattle.ada_tree.specs.Names.{Ident, NameTree, ident_pieces, name_pieces}
use Rattle.ada_tree.specs.Declarations.{FormalTree, HeadTree, optional_word_pieces, formal_pieces, next_formal_pieces, formals_pieces, specification_pieces, body_start_pieces, end_name_pieces}
use Rattle.ada_tree.specs.Statements.{DeclarationTree, exception_declaration, constant_declaration, pool_declaration, object_declaration, borrower_declaration, incomplete_type, access_type, record_type, derived_type, attribute_clause, specification, body_declaration, instance, DeclarationsTree, no_declarations, a_declaration, SequenceTree, begin_of, ending_pieces, declaration_pieces, declarations_pieces, sequence_pieces}
use Rattle.ada_reader.specs.Step.{Phrase, too_deep, spot_of, is_kind, is_at, at, fixed, continued}
use Rattle.ada_phrases.specs.Declarations.{type_at, object_at, formals_at, Start, start_from, start_at, earlier, head_from, instance_at}
use Rattle.ada_phrases.specs.Statements.{Inner, level, body_from, body_in, specification_at, behind_formals_in, with_formals_in, at_instance, behind_is_in, behind_name_in, procedure_in, at_procedure, declaration_in, declarations_in}
use Rattle.ada_parser.proofs.Sound.{is_filled}
use Rattle.ada_parser.proofs.Complete.{Follow, Next, any, any_next, unless, before, Leads, Complete, sinks, expected, append_spelled, leads_first, leads_any, leads_same, leads_front, complete_as, mapped_complete, continued_complete, both_complete, choose_true, choose_false, placed_complete, after_complete, identifier_complete, all_complete, until_items}
use Rattle.ada_parser.proofs.ExpressionTexts.{one_less}
use Rattle.ada_parser.proofs.RightTexts.{Looks, initial_complete}
use Rattle.ada_parser.proofs.RecordTexts.{semicolon_complete}
use Rattle.ada_parser.proofs.DeclarationTexts.{leads_open, end_name_complete, optional_complete, formals_complete, incomplete_type_complete, access_type_complete, record_definition_complete, derived_type_complete, attribute_clause_complete, exception_complete, constant_complete, borrower_complete, pool_complete, object_complete, instance_complete}
use Rattle.ada_parser.proofs.StatementTexts.{complete_value, choose_true_as, choose_false_as, leads_level, declaration_list, declarations_again, declarations_are, Level, Holds, begin_complete}

-- ---- phrases that nothing sinks in

-- no piece is past the limit of nesting
abbrev is_shallow : List Piece → Bool
is_shallow [] = true
is_shallow (anywhere k ∷ ps) = is_shallow ps
is_shallow (placed k spot ∷ ps) = is_shallow ps
is_shallow (deep k ∷ ps) = false
is_shallow (never ∷ ps) = is_shallow ps

shallow_sinks : (ps : List Piece) (ts : List Lexeme) → is_shallow ps ≡ true → sinks ps ts ≡ None
shallow_sinks [] ts e = refl
shallow_sinks (p ∷ ps) [] e = refl
shallow_sinks (anywhere k ∷ ps) (t ∷ ts) e = shallow_sinks ps ts e
shallow_sinks (placed k spot ∷ ps) (t ∷ ts) e = shallow_sinks ps ts e
shallow_sinks (deep k ∷ ps) (t ∷ ts) e = absurd cc
shallow_sinks (never ∷ ps) (t ∷ ts) e = shallow_sinks ps ts e

shallow_append : (ps qs : List Piece) → is_shallow ps ≡ true → is_shallow qs ≡ true → is_shallow (ps ++ qs) ≡ true
shallow_append [] qs e f = f
shallow_append (anywhere k ∷ ps) qs e f = shallow_append ps qs e f
shallow_append (placed k spot ∷ ps) qs e f = shallow_append ps qs e f
shallow_append (deep k ∷ ps) qs e f = absurd cc
shallow_append (never ∷ ps) qs e f = shallow_append ps qs e f

-- what nothing sinks in is read
shallow_reads : {A : Type 0} {ps : List Piece} {read : Phrase A} {x : A} → Complete ps read x any → is_shallow ps ≡ true → (ts rest : List Lexeme) → Spelled ps ts rest → read ts ≡ Ok (x, rest)
shallow_reads {A} {ps} {read} {x} c e ts rest w = subst (λ (o : Option Spot). read ts ≡ expected o x rest) (shallow_sinks ps ts e) (c.reads ts rest w (any_next rest))

optional_shallow : (w : Word) (spot : Option Spot) → is_shallow (optional_word_pieces w spot) ≡ true
optional_shallow w None = refl
optional_shallow w (Some spot) = refl

formal_shallow : (x : FormalTree) → is_shallow (formal_pieces x) ≡ true
formal_shallow x = shallow_append ((ident_pieces x.name ++ (anywhere (delimiter mark.Colon) ∷ optional_word_pieces word.«In» x.input)) ++ optional_word_pieces word.Out x.output) (ident_pieces x.type_name)
    (shallow_append (ident_pieces x.name ++ (anywhere (delimiter mark.Colon) ∷ optional_word_pieces word.«In» x.input)) (optional_word_pieces word.Out x.output) (optional_shallow word.«In» x.input) (optional_shallow word.Out x.output)) refl

next_formals_shallow : (xs : List FormalTree) → is_shallow (flat_map next_formal_pieces xs) ≡ true
next_formals_shallow [] = refl
next_formals_shallow (x ∷ xs) = ap is_shallow (flat_map-cons next_formal_pieces x xs) ∙ shallow_append (next_formal_pieces x) (flat_map next_formal_pieces xs) (formal_shallow x) (next_formals_shallow xs)

-- ---- formals and first words

-- what stands behind the parenthesis of formals
abbrev rest_pieces : FormalTree → List FormalTree → List Piece
rest_pieces x xs = formal_pieces x ++ (flat_map next_formal_pieces xs ++ anywhere (delimiter mark.RightParenthesis) ∷ [])

formals_are : (room : ℕ) (x : FormalTree) (xs : List FormalTree) (qs : List Piece) → formals_pieces room (x ∷ xs) ++ qs ≡ opening room (delimiter mark.LeftParenthesis) ∷ (rest_pieces x xs ++ qs)
formals_are room x xs qs = ap (λ (us : List Piece). opening room (delimiter mark.LeftParenthesis) ∷ (us ++ qs)) (append_assoc (formal_pieces x) (flat_map next_formal_pieces xs) (anywhere (delimiter mark.RightParenthesis) ∷ []))

formals_read : (x : FormalTree) (xs : List FormalTree) (ts rest : List Lexeme) → Spelled (rest_pieces x xs) ts rest → formals_at ts ≡ Ok (x ∷ xs, rest)
formals_read x xs = shallow_reads (formals_complete x xs) (shallow_append (formal_pieces x) (flat_map next_formal_pieces xs ++ anywhere (delimiter mark.RightParenthesis) ∷ []) (formal_shallow x)
    (shallow_append (flat_map next_formal_pieces xs) (anywhere (delimiter mark.RightParenthesis) ∷ []) (next_formals_shallow xs) refl))

-- `overriding procedure P`
abbrev start_pieces : Start → List Piece
start_pieces s = optional_word_pieces word.Overriding s.overriding ++ (placed (reserved word.Procedure) s.spot ∷ ident_pieces s.name)

start_complete : (s : Start) → Complete (start_pieces s) start_at s any
unfolding start_at
start_complete s = mapped_complete start_from (both_complete (optional_complete word.Overriding s.overriding refl) (both_complete (placed_complete s.spot refl) (identifier_complete s.name) leads_any) (leads_first refl))

start_read : (s : Start) (ts rest : List Lexeme) → Spelled (start_pieces s) ts rest → start_at ts ≡ Ok (s, rest)
start_read s = shallow_reads (start_complete s) (shallow_append (optional_word_pieces word.Overriding s.overriding) (placed (reserved word.Procedure) s.spot ∷ ident_pieces s.name) (optional_shallow word.Overriding s.overriding) refl)

taken_reads : {A : Type 0} (k : Kind) (q : Spot → Phrase A) (x : A) (ps : List Piece) (f : Follow) (ts rest : List Lexeme) → is_kind k k ≡ true → ((spot : Spot) → Complete ps (q spot) x f) → Spelled (anywhere k ∷ ps) ts rest → Next f rest → continued (fixed k) q ts ≡ expected (sinks (anywhere k ∷ ps) ts) x rest
unfolding fixed
taken_reads k q x ps f [] rest e c w n = absurd w
taken_reads k q x ps f (t ∷ ts) rest e c w n =
    let g : is_kind k t.kind ≡ true = ap (is_kind k) w.0 ∙ e in
    rw g ((c (spot_of t)).reads ts rest w.1 n)

-- a token, and what stands behind it, wherever it stands
taken_complete : {A : Type 0} {k : Kind} {x : A} {ps : List Piece} {f : Follow} (q : Spot → Phrase A) → is_kind k k ≡ true → ((spot : Spot) → Complete ps (q spot) x f) → Complete (anywhere k ∷ ps) (continued (fixed k) q) x f
taken_complete {A} {k} {x} {ps} {f} q e c = record { reads = λ ts rest w n. taken_reads k q x ps f ts rest e c w n }

word_next : (k l : Kind) (b : Bool) (ps : List Piece) (ts rest : List Lexeme) → is_kind l k ≡ b → Spelled (anywhere k ∷ ps) ts rest → at l ts ≡ b
word_next k l b ps [] rest e w = absurd w
word_next k l b ps (t ∷ ts) rest e w = ap (is_kind l) w.0 ∙ e

-- ---- specifications

specified_complete : (head : HeadTree) → Complete ending_pieces (specification_at head) (specification head) any
specified_complete head = mapped_complete (λ _. specification head) semicolon_complete

-- without room, the parenthesis is too deep
specified_deep : (inner : Inner) (s : Start) (x : FormalTree) (xs : List FormalTree) (ts rest : List Lexeme) → Spelled (deep (delimiter mark.LeftParenthesis) ∷ (rest_pieces x xs ++ ending_pieces)) ts rest → continued (fixed (delimiter mark.LeftParenthesis)) (with_formals_in zero inner s) ts ≡ expected (sinks (deep (delimiter mark.LeftParenthesis) ∷ (rest_pieces x xs ++ ending_pieces)) ts) (specification (head_from s (x ∷ xs))) rest
unfolding fixed
specified_deep inner s x xs [] rest w = absurd w
specified_deep inner s x xs (t ∷ ts) rest w =
    let a = append_spelled (rest_pieces x xs) ending_pieces ts rest w.1 in
    let k : is_kind (delimiter mark.LeftParenthesis) t.kind ≡ true = ap (is_kind (delimiter mark.LeftParenthesis)) w.0 in
    let no : at (reserved word.Is) a.0 ≡ false = word_next (delimiter mark.Semicolon) (reserved word.Is) false [] a.0 rest refl a.2 in
    rw (k, formals_read x xs ts a.0 a.1, no) refl

specified_formals : (room : ℕ) (inner : Inner) (s : Start) (x : FormalTree) (xs : List FormalTree) → Complete (opening room (delimiter mark.LeftParenthesis) ∷ (rest_pieces x xs ++ ending_pieces)) (continued (fixed (delimiter mark.LeftParenthesis)) (with_formals_in room inner s)) (specification (head_from s (x ∷ xs))) any
unfolding behind_formals_in
specified_formals zero inner s x xs = record { reads = λ ts rest w n. specified_deep inner s x xs ts rest w }
specified_formals (suc room) inner s x xs = taken_complete (with_formals_in (suc room) inner s) refl
    (λ parenthesis. continued_complete (λ formals. behind_formals_in room inner (head_from s formals) parenthesis) (formals_complete x xs)
    (choose_false (specified_complete (head_from s (x ∷ xs))) (leads_first refl)) leads_any)

specified_name : (room : ℕ) (inner : Inner) (s : Start) (formals : List FormalTree) → Complete (formals_pieces room formals ++ ending_pieces) (behind_name_in room inner s) (specification (head_from s formals)) any
unfolding behind_name_in
specified_name room inner s [] = choose_false (choose_false (specified_complete (head_from s [])) (leads_first refl)) (leads_first refl)
specified_name room inner s (x ∷ xs) = complete_as (choose_true (specified_formals room inner s x xs) (leads_open (delimiter mark.LeftParenthesis) room refl)) (formals_are room x xs ending_pieces)

specification_complete : (room : ℕ) (inner : Inner) (head : HeadTree) → Complete (declaration_pieces room (specification head)) (procedure_in room inner) (specification head) any
unfolding procedure_in
specification_complete room inner head =
    let s : Start = record { overriding = head.overriding; spot = head.spot; name = head.name } in
    complete_as (continued_complete (behind_name_in room inner) (start_complete s) (specified_name room inner s head.formals) leads_any)
    (append_assoc (start_pieces s) (formals_pieces room head.formals) ending_pieces)

-- ---- bodies

-- what stands behind the `is` of a body
abbrev behind_pieces : ℕ → DeclarationsTree → SequenceTree → Option Ident → List Piece
behind_pieces room ds body end_name = declarations_pieces room ds ++ ((placed (reserved word.Begin) (begin_of body) ∷ sequence_pieces room body) ++ (end_name_pieces end_name ++ ending_pieces))

body_complete : {inner : Inner} (room : ℕ) → Level room inner → (head : HeadTree) (ds : DeclarationsTree) (body : SequenceTree) (end_name : Option Ident) → Complete (behind_pieces room ds body end_name) (body_in inner head) (body_declaration head ds body end_name) any
unfolding body_in
body_complete room inner head ds body end_name = complete_value (ap (λ xs. body_declaration head xs body end_name) (declarations_again ds))
    (mapped_complete (body_from head) (both_complete (inner.declarations ds) (both_complete (begin_complete room inner.statements body)
    (both_complete (end_name_complete end_name) semicolon_complete (leads_first refl)) leads_any) (leads_first refl)))

-- with room for the body but none for its parenthesis
formals_deep : (inner : Inner) (s : Start) (x : FormalTree) (xs : List FormalTree) (ps : List Piece) (d : DeclarationTree) (ts rest : List Lexeme) → Spelled (deep (delimiter mark.LeftParenthesis) ∷ (rest_pieces x xs ++ (anywhere (reserved word.Is) ∷ ps))) ts rest → continued (fixed (delimiter mark.LeftParenthesis)) (with_formals_in 1 inner s) ts ≡ expected (sinks (deep (delimiter mark.LeftParenthesis) ∷ (rest_pieces x xs ++ (anywhere (reserved word.Is) ∷ ps))) ts) d rest
unfolding fixed behind_formals_in
formals_deep inner s x xs ps d [] rest w = absurd w
formals_deep inner s x xs ps d (t ∷ ts) rest w =
    let a = append_spelled (rest_pieces x xs) (anywhere (reserved word.Is) ∷ ps) ts rest w.1 in
    let k : is_kind (delimiter mark.LeftParenthesis) t.kind ≡ true = ap (is_kind (delimiter mark.LeftParenthesis)) w.0 in
    let yes : at (reserved word.Is) a.0 ≡ true = word_next (reserved word.Is) (reserved word.Is) true ps a.0 rest refl a.2 in
    rw (k, formals_read x xs ts a.0 a.1, yes) refl

within_level : {ps : List Piece} {read : Phrase DeclarationTree} {d : DeclarationTree} {f : Follow} (room : ℕ) (spot : Spot) → Complete ps read d f → Complete ps (continued (level (suc room) spot) (λ _. read)) d f
within_level room spot c = record { reads = λ ts rest w n. c.reads ts rest w n }

body_formals : (room : ℕ) (inner : Inner) (s : Start) (x : FormalTree) (xs : List FormalTree) (ps : List Piece) (d : DeclarationTree) → Complete ps (body_in inner (head_from s (x ∷ xs))) d any → Complete (opening room (delimiter mark.LeftParenthesis) ∷ (rest_pieces x xs ++ (anywhere (reserved word.Is) ∷ ps))) (continued (fixed (delimiter mark.LeftParenthesis)) (with_formals_in (suc room) inner s)) d any
unfolding behind_formals_in
body_formals zero inner s x xs ps d c = record { reads = λ ts rest w n. formals_deep inner s x xs ps d ts rest w }
body_formals (suc room) inner s x xs ps d c = taken_complete (with_formals_in (suc (suc room)) inner s) refl
    (λ parenthesis. continued_complete (λ formals. behind_formals_in (suc room) inner (head_from s formals) parenthesis) (formals_complete x xs)
    (choose_true (within_level room parenthesis (after_complete refl c)) (leads_first refl)) leads_any)

-- The tests that no declaration's first token passes.
record Undeclared (f : Follow) : Type 0 where
  pub by_name : (text : List ℕ) → f.test (identifier text) ≡ f.value
  pub by_type : f.test (reserved word.«Type») ≡ f.value
  pub by_for : f.test (reserved word.For) ≡ f.value
  pub by_procedure : f.test (reserved word.Procedure) ≡ f.value
  pub by_overriding : f.test (reserved word.Overriding) ≡ f.value

optional_leads : {g f : Follow} (o : Option Spot) (spot : Spot) (ps : List Piece) → f.test (reserved word.Procedure) ≡ f.value → f.test (reserved word.Overriding) ≡ f.value → Leads (optional_word_pieces word.Overriding o ++ (placed (reserved word.Procedure) spot ∷ ps)) g f
optional_leads None spot ps a b = leads_first a
optional_leads (Some first) spot ps a b = leads_first b

body_start_leads : {g f : Follow} (room : ℕ) (o : Option Spot) (spot : Spot) → f.test (reserved word.Procedure) ≡ f.value → f.test (reserved word.Overriding) ≡ f.value → Leads (body_start_pieces room o spot) g f
body_start_leads room None spot a b = leads_level (reserved word.Procedure) room spot a
body_start_leads room (Some first) spot a b = leads_level (reserved word.Overriding) room first b

specification_leads : {g f : Follow} (room : ℕ) (head : HeadTree) → f.test (reserved word.Procedure) ≡ f.value → f.test (reserved word.Overriding) ≡ f.value → Leads (declaration_pieces room (specification head)) g f
specification_leads room head a b = leads_front ending_pieces (leads_front (formals_pieces room head.formals) (optional_leads head.overriding head.spot (ident_pieces head.name) a b))

body_leads : {g f : Follow} (room : ℕ) (head : HeadTree) (ds : DeclarationsTree) (body : SequenceTree) (end_name : Option Ident) → f.test (reserved word.Procedure) ≡ f.value → f.test (reserved word.Overriding) ≡ f.value → Leads (declaration_pieces room (body_declaration head ds body end_name)) g f
body_leads room head ds body end_name a b = leads_front ending_pieces (leads_front (end_name_pieces end_name) (leads_front (placed (reserved word.Begin) (begin_of body) ∷ sequence_pieces (room - 1) body)
    (leads_front (anywhere (reserved word.Is) ∷ declarations_pieces (room - 1) ds) (leads_front (formals_pieces (room - 1) head.formals) (leads_front (ident_pieces head.name) (body_start_leads room head.overriding head.spot a b))))))

declaration_leads : {g f : Follow} (room : ℕ) → Undeclared f → (d : DeclarationTree) → Leads (declaration_pieces room d) g f
declaration_leads room u (exception_declaration name) = leads_first (u.by_name name.text)
declaration_leads room u (constant_declaration name value) = leads_first (u.by_name name.text)
declaration_leads room u (pool_declaration name type_name label size) = leads_first (u.by_name name.text)
declaration_leads room u (object_declaration name type_name initial) = leads_first (u.by_name name.text)
declaration_leads room u (borrower_declaration name designated initial) = leads_first (u.by_name name.text)
declaration_leads room u (incomplete_type spot name) = leads_first u.by_type
declaration_leads room u (access_type spot name designated aspect) = leads_first u.by_type
declaration_leads room u (record_type spot name r) = leads_first u.by_type
declaration_leads room u (derived_type spot name parent r) = leads_first u.by_type
declaration_leads room u (attribute_clause spot name attribute value) = leads_first u.by_for
declaration_leads room u (specification head) = specification_leads room head u.by_procedure u.by_overriding
declaration_leads room u (body_declaration head ds body end_name) = body_leads room head ds body end_name u.by_procedure u.by_overriding
declaration_leads room u (instance spot name generic designated access) = leads_first u.by_procedure

no_new : Undeclared (unless (reserved word.New))
no_new = record { by_name = λ t. refl; by_type = refl; by_for = refl; by_procedure = refl; by_overriding = refl }

no_begin : Undeclared (unless (reserved word.Begin))
no_begin = record { by_name = λ t. refl; by_type = refl; by_for = refl; by_procedure = refl; by_overriding = refl }

-- no body begins with `new`
behind_leads : (room : ℕ) (ds : DeclarationsTree) (body : SequenceTree) (end_name : Option Ident) → Leads (behind_pieces room ds body end_name) any (unless (reserved word.New))
behind_leads room no_declarations body end_name = leads_first refl
behind_leads room (a_declaration d ds) body end_name = leads_front ((placed (reserved word.Begin) (begin_of body) ∷ sequence_pieces room body) ++ (end_name_pieces end_name ++ ending_pieces)) (leads_front (declarations_pieces room ds) (declaration_leads room no_new d))

no_instance : (o : Option Spot) (ts : List Lexeme) → at (reserved word.New) ts ≡ false → at_instance o ts ≡ false
no_instance None ts e = e
no_instance (Some spot) ts e = refl

body_behind_is : (room : ℕ) (inner : Inner) (s : Start) (ps : List Piece) (d : DeclarationTree) → Complete ps (body_in inner (head_from s [])) d any → Leads ps any (unless (reserved word.New)) → Complete ps (behind_is_in (suc room) inner s) d any
unfolding behind_is_in
body_behind_is room inner s ps d c l = record {
  reads = λ ts rest w n. let h : at_instance s.overriding ts ≡ false = no_instance s.overriding ts (l.next ts rest w n) in rw h (c.reads ts rest w n);
}

body_name : {inner : Inner} (room less : ℕ) → less ≡ room → Level less inner → (s : Start) (formals : List FormalTree) (ds : DeclarationsTree) (body : SequenceTree) (end_name : Option Ident) → Complete (formals_pieces less formals ++ (anywhere (reserved word.Is) ∷ behind_pieces less ds body end_name)) (behind_name_in (suc room) inner s) (body_declaration (head_from s formals) ds body end_name) any
unfolding behind_name_in
body_name {inner} room less e inside s [] ds body end_name = choose_false (choose_true (after_complete refl
    (body_behind_is room inner s _ _ (body_complete less inside (head_from s []) ds body end_name) (behind_leads less ds body end_name))) (leads_first refl)) (leads_first refl)
body_name {inner} room less e inside s (x ∷ xs) ds body end_name = complete_as (choose_true
    (subst (λ (n : ℕ). Complete (opening n (delimiter mark.LeftParenthesis) ∷ (rest_pieces x xs ++ (anywhere (reserved word.Is) ∷ behind_pieces less ds body end_name))) (continued (fixed (delimiter mark.LeftParenthesis)) (with_formals_in (suc room) inner s)) (body_declaration (head_from s (x ∷ xs)) ds body end_name) any) (sym e)
    (body_formals room inner s x xs _ _ (body_complete less inside (head_from s (x ∷ xs)) ds body end_name)))
    (leads_open (delimiter mark.LeftParenthesis) less refl)) (formals_are less x xs (anywhere (reserved word.Is) ∷ behind_pieces less ds body end_name))

-- without room for the body, its first word is too deep

opening_spelled : (room : ℕ) (k : Kind) (ps : List Piece) (ts rest : List Lexeme) → Spelled (opening room k ∷ ps) ts rest → Spelled (anywhere k ∷ ps) ts rest
opening_spelled room k ps [] rest w = absurd w
opening_spelled zero k ps (t ∷ ts) rest w = w
opening_spelled (suc room) k ps (t ∷ ts) rest w = w

deep_name : (inner : Inner) (s : Start) (x : FormalTree) (xs : List FormalTree) (ps : List Piece) (ts rest : List Lexeme) → Spelled (anywhere (delimiter mark.LeftParenthesis) ∷ (rest_pieces x xs ++ (anywhere (reserved word.Is) ∷ ps))) ts rest → behind_name_in zero inner s ts ≡ Err (too_deep (earlier s.overriding s.spot))
unfolding behind_name_in fixed
deep_name inner s x xs ps [] rest w = absurd w
deep_name inner s x xs ps (t ∷ ts) rest w =
    let a = append_spelled (rest_pieces x xs) (anywhere (reserved word.Is) ∷ ps) ts rest w.1 in
    let k : is_kind (delimiter mark.LeftParenthesis) t.kind ≡ true = ap (is_kind (delimiter mark.LeftParenthesis)) w.0 in
    let yes : at (reserved word.Is) a.0 ≡ true = word_next (reserved word.Is) (reserved word.Is) true ps a.0 rest refl a.2 in
    rw (k, formals_read x xs ts a.0 a.1, yes) refl

deep_bare : (inner : Inner) (s : Start) (ps : List Piece) (ts rest : List Lexeme) → Leads ps any (unless (reserved word.New)) → Spelled (anywhere (reserved word.Is) ∷ ps) ts rest → behind_name_in zero inner s ts ≡ Err (too_deep (earlier s.overriding s.spot))
unfolding behind_name_in behind_is_in fixed
deep_bare inner s ps [] rest l w = absurd w
deep_bare inner s ps (t ∷ ts) rest l w =
    let no : is_kind (delimiter mark.LeftParenthesis) t.kind ≡ false = ap (is_kind (delimiter mark.LeftParenthesis)) w.0 in
    let yes : is_kind (reserved word.Is) t.kind ≡ true = ap (is_kind (reserved word.Is)) w.0 in
    let h : at_instance s.overriding ts ≡ false = no_instance s.overriding ts (l.next ts rest w.1 (any_next rest)) in
    rw (no, yes, h) refl

deep_behind : (less : ℕ) (inner : Inner) (s : Start) (formals : List FormalTree) (ps : List Piece) (ts rest : List Lexeme) → Leads ps any (unless (reserved word.New)) → Spelled (formals_pieces less formals ++ (anywhere (reserved word.Is) ∷ ps)) ts rest → behind_name_in zero inner s ts ≡ Err (too_deep (earlier s.overriding s.spot))
deep_behind less inner s [] ps ts rest l w = deep_bare inner s ps ts rest l w
deep_behind less inner s (x ∷ xs) ps ts rest l w = deep_name inner s x xs ps ts rest
    (opening_spelled less (delimiter mark.LeftParenthesis) (rest_pieces x xs ++ (anywhere (reserved word.Is) ∷ ps)) ts rest (subst (λ (us : List Piece). Spelled us ts rest) (formals_are less x xs (anywhere (reserved word.Is) ∷ ps)) w))

deep_procedure : (less : ℕ) (inner : Inner) (s : Start) (formals : List FormalTree) (ps : List Piece) (ts rest : List Lexeme) → Leads ps any (unless (reserved word.New)) → Spelled (start_pieces s ++ (formals_pieces less formals ++ (anywhere (reserved word.Is) ∷ ps))) ts rest → procedure_in zero inner ts ≡ Err (too_deep (earlier s.overriding s.spot))
unfolding procedure_in
deep_procedure less inner s formals ps ts rest l w =
    let a = append_spelled (start_pieces s) (formals_pieces less formals ++ (anywhere (reserved word.Is) ∷ ps)) ts rest w in
    rw (start_read s ts a.0 a.1) (deep_behind less inner s formals ps a.0 rest l a.2)

-- a body, piece by piece
abbrev all_pieces : ℕ → ℕ → Option Spot → Spot → Ident → List FormalTree → List Piece → List Piece
all_pieces room less o spot name formals ps = body_start_pieces room o spot ++ (ident_pieces name ++ (formals_pieces less formals ++ (anywhere (reserved word.Is) ∷ ps)))

deep_body : (less : ℕ) (inner : Inner) (o : Option Spot) (spot : Spot) (name : Ident) (formals : List FormalTree) (ps : List Piece) (d : DeclarationTree) (ts rest : List Lexeme) → Leads ps any (unless (reserved word.New)) → Spelled (all_pieces zero less o spot name formals ps) ts rest → procedure_in zero inner ts ≡ expected (sinks (all_pieces zero less o spot name formals ps) ts) d rest
deep_body less inner None spot name formals ps d [] rest l w = absurd w
deep_body less inner None spot name formals ps d (t ∷ ts) rest l w = deep_procedure less inner (record { overriding = None; spot = spot_of t; name = name }) formals ps (t ∷ ts) rest l ((w.0, refl, refl), w.1)
deep_body less inner (Some first) spot name formals ps d [] rest l w = absurd w
deep_body less inner (Some first) spot name formals ps d (t ∷ ts) rest l w = deep_procedure less inner (record { overriding = Some (spot_of t); spot = spot; name = name }) formals ps (t ∷ ts) rest l ((w.0, refl, refl), w.1)

starts_by : (room : ℕ) (o : Option Spot) (spot : Spot) (name : Ident) (ps : List Piece) → body_start_pieces (suc room) o spot ++ (ident_pieces name ++ ps) ≡ (optional_word_pieces word.Overriding o ++ (placed (reserved word.Procedure) spot ∷ ident_pieces name)) ++ ps
starts_by room None spot name ps = refl
starts_by room (Some first) spot name ps = refl

start_is : (room : ℕ) (s : Start) (ps : List Piece) → body_start_pieces (suc room) s.overriding s.spot ++ (ident_pieces s.name ++ ps) ≡ start_pieces s ++ ps
start_is room s ps = starts_by room s.overriding s.spot s.name ps

all_complete_at : {inner : Inner} (room : ℕ) → Holds room inner → (s : Start) (formals : List FormalTree) (ds : DeclarationsTree) (body : SequenceTree) (end_name : Option Ident) → Complete (all_pieces room (room - 1) s.overriding s.spot s.name formals (behind_pieces (room - 1) ds body end_name)) (procedure_in room inner) (body_declaration (head_from s formals) ds body end_name) any
unfolding procedure_in
all_complete_at {inner} zero holds s formals ds body end_name = record {
  reads = λ ts rest w n. deep_body (zero - 1) inner s.overriding s.spot s.name formals (behind_pieces (zero - 1) ds body end_name) (body_declaration (head_from s formals) ds body end_name) ts rest (behind_leads (zero - 1) ds body end_name) w;
}
all_complete_at {inner} (suc room) holds s formals ds body end_name = complete_as (continued_complete (behind_name_in (suc room) inner) (start_complete s)
    (body_name room (suc room - 1) (one_less (suc room) room refl) (holds room refl) s formals ds body end_name) leads_any)
    (start_is room s (formals_pieces (suc room - 1) formals ++ (anywhere (reserved word.Is) ∷ behind_pieces (suc room - 1) ds body end_name)))

grouped : (a b c d e f g : List Piece) → ((((((a ++ b) ++ c) ++ d) ++ e) ++ f) ++ g) ≡ a ++ (b ++ (c ++ (d ++ (e ++ (f ++ g)))))
grouped a b c d e f g = simp append_assoc

body_declaration_complete : {inner : Inner} (room : ℕ) → Holds room inner → (head : HeadTree) (ds : DeclarationsTree) (body : SequenceTree) (end_name : Option Ident) → Complete (declaration_pieces room (body_declaration head ds body end_name)) (procedure_in room inner) (body_declaration head ds body end_name) any
body_declaration_complete room holds head ds body end_name = complete_as
    (all_complete_at room holds (record { overriding = head.overriding; spot = head.spot; name = head.name }) head.formals ds body end_name)
    (grouped (body_start_pieces room head.overriding head.spot) (ident_pieces head.name) (formals_pieces (room - 1) head.formals) (anywhere (reserved word.Is) ∷ declarations_pieces (room - 1) ds)
    (placed (reserved word.Begin) (begin_of body) ∷ sequence_pieces (room - 1) body) (end_name_pieces end_name) ending_pieces)

-- ---- instances

instance_behind : (room : ℕ) (inner : Inner) (spot : Spot) (name : Ident) (d : DeclarationTree) (ps : List Piece) → Complete (anywhere (reserved word.New) ∷ ps) (instance_at room (record { overriding = None; spot = spot; name = name })) d any → Complete (anywhere (reserved word.Is) ∷ anywhere (reserved word.New) ∷ ps) (behind_name_in room inner (record { overriding = None; spot = spot; name = name })) d any
unfolding behind_name_in behind_is_in
instance_behind room inner spot name d ps c = choose_false (choose_true (after_complete refl (choose_true c (leads_first refl))) (leads_first refl)) (leads_first refl)

regrouped : (a b c d : List Piece) → (((a ++ b) ++ c) ++ d) ≡ a ++ (b ++ (c ++ d))
regrouped a b c d = simp append_assoc

instance_declaration_complete : (room : ℕ) (inner : Inner) (spot : Spot) (name : Ident) (generic : NameTree) (designated access : Ident) → Complete (declaration_pieces room (instance spot name generic designated access)) (procedure_in room inner) (instance spot name generic designated access) any
unfolding procedure_in
instance_declaration_complete room inner spot name generic designated access =
    let s : Start = record { overriding = None; spot = spot; name = name } in
    complete_as (continued_complete (behind_name_in room inner) (start_complete s) (instance_behind room inner spot name _ _ (instance_complete room s generic designated access)) leads_any)
    (regrouped ((placed (reserved word.Procedure) spot ∷ ident_pieces name) ++ (anywhere (reserved word.Is) ∷ anywhere (reserved word.New) ∷ name_pieces generic)) (opening room (delimiter mark.LeftParenthesis) ∷ ident_pieces designated) (anywhere (delimiter mark.Comma) ∷ ident_pieces access) (anywhere (delimiter mark.RightParenthesis) ∷ ending_pieces))

-- ---- declarations

-- a word that begins a procedure
abbrev is_procedure : Kind → Bool
is_procedure k = is_kind (reserved word.Procedure) k || is_kind (reserved word.Overriding) k

procedure_is : (ts : List Lexeme) → at_procedure ts ≡ is_at is_procedure ts
procedure_is [] = refl
procedure_is (t ∷ ts) = refl

by_procedure : {ps : List Piece} {d : DeclarationTree} (room : ℕ) (inner : Inner) → Complete ps (procedure_in room inner) d any → Leads ps any (record { test = is_procedure; value = true }) → Complete ps (declaration_in room inner) d any
unfolding declaration_in
by_procedure room inner c l = choose_true_as at_procedure is_procedure _ _ procedure_is c l

by_type : {ps : List Piece} {d : DeclarationTree} (room : ℕ) (inner : Inner) → Complete ps type_at d any → Leads ps any (record { test = is_procedure; value = false }) → Leads ps any (before (reserved word.«Type»)) → Complete ps (declaration_in room inner) d any
unfolding declaration_in
by_type room inner c l m = choose_false_as at_procedure is_procedure _ _ procedure_is (choose_true c m) l

by_object : {ps : List Piece} {d : DeclarationTree} (room : ℕ) (inner : Inner) → Complete ps (object_at room) d any → Leads ps any (record { test = is_procedure; value = false }) → Leads ps any (unless (reserved word.«Type»)) → Leads ps any (unless (reserved word.For)) → Complete ps (declaration_in room inner) d any
unfolding declaration_in
by_object room inner c l m n = choose_false_as at_procedure is_procedure _ _ procedure_is (choose_false (choose_false c n) m) l

pub declaration_complete : ((n : ℕ) → Looks n) → {inner : Inner} (room : ℕ) → Holds room inner → (d : DeclarationTree) → Complete (declaration_pieces room d) (declaration_in room inner) d any
unfolding declaration_in
declaration_complete looks room holds (exception_declaration name) = by_object room _ (exception_complete room name) (leads_first refl) (leads_first refl) (leads_first refl)
declaration_complete looks room holds (constant_declaration name value) = by_object room _ (constant_complete room name value) (leads_first refl) (leads_first refl) (leads_first refl)
declaration_complete looks room holds (pool_declaration name type_name label size) = by_object room _ (pool_complete room name type_name label size) (leads_first refl) (leads_first refl) (leads_first refl)
declaration_complete looks room holds (object_declaration name type_name initial) = by_object room _ (object_complete room (initial_complete looks room) name type_name initial) (leads_first refl) (leads_first refl) (leads_first refl)
declaration_complete looks room holds (borrower_declaration name designated initial) = by_object room _ (borrower_complete room (initial_complete looks room) name designated initial) (leads_first refl) (leads_first refl) (leads_first refl)
declaration_complete looks room holds (incomplete_type spot name) = by_type room _ (incomplete_type_complete room spot name) (leads_first refl) (leads_first refl)
declaration_complete looks room holds (access_type spot name designated aspect) = by_type room _ (access_type_complete room spot name designated aspect) (leads_first refl) (leads_first refl)
declaration_complete looks room holds (record_type spot name r) = by_type room _ (record_definition_complete room spot name r) (leads_first refl) (leads_first refl)
declaration_complete looks room holds (derived_type spot name parent r) = by_type room _ (derived_type_complete room spot name parent r) (leads_first refl) (leads_first refl)
declaration_complete looks room holds (attribute_clause spot name attribute value) = choose_false_as at_procedure is_procedure _ _ procedure_is (choose_false (choose_true
    (attribute_clause_complete room spot name attribute value) (leads_first refl)) (leads_first refl)) (leads_first refl)
declaration_complete looks room holds (specification head) = by_procedure room _ (specification_complete room _ head) (specification_leads room head refl refl)
declaration_complete looks room holds (body_declaration head ds body end_name) = by_procedure room _ (body_declaration_complete room holds head ds body end_name) (body_leads room head ds body end_name refl refl)
declaration_complete looks room holds (instance spot name generic designated access) = by_procedure room _ (instance_declaration_complete room _ spot name generic designated access) (leads_first refl)

filled_front : (ps qs : List Piece) → is_filled ps ≡ true → is_filled (ps ++ qs) ≡ true
filled_front [] qs e = absurd cc
filled_front (p ∷ ps) qs e = refl

optional_filled : (o : Option Spot) (spot : Spot) (ps : List Piece) → is_filled (optional_word_pieces word.Overriding o ++ (placed (reserved word.Procedure) spot ∷ ps)) ≡ true
optional_filled None spot ps = refl
optional_filled (Some first) spot ps = refl

body_start_filled : (room : ℕ) (o : Option Spot) (spot : Spot) → is_filled (body_start_pieces room o spot) ≡ true
body_start_filled room None spot = refl
body_start_filled room (Some first) spot = refl

specification_filled : (room : ℕ) (head : HeadTree) → is_filled (declaration_pieces room (specification head)) ≡ true
specification_filled room head = filled_front (specification_pieces room head) ending_pieces
    (filled_front (optional_word_pieces word.Overriding head.overriding ++ (placed (reserved word.Procedure) head.spot ∷ ident_pieces head.name)) (formals_pieces room head.formals) (optional_filled head.overriding head.spot (ident_pieces head.name)))

body_filled : (room : ℕ) (head : HeadTree) (ds : DeclarationsTree) (body : SequenceTree) (end_name : Option Ident) → is_filled (declaration_pieces room (body_declaration head ds body end_name)) ≡ true
body_filled room head ds body end_name = ap is_filled (grouped (body_start_pieces room head.overriding head.spot) (ident_pieces head.name) (formals_pieces (room - 1) head.formals) (anywhere (reserved word.Is) ∷ declarations_pieces (room - 1) ds)
    (placed (reserved word.Begin) (begin_of body) ∷ sequence_pieces (room - 1) body) (end_name_pieces end_name) ending_pieces) ∙
    filled_front (body_start_pieces room head.overriding head.spot) _ (body_start_filled room head.overriding head.spot)

declaration_filled : (room : ℕ) (d : DeclarationTree) → is_filled (declaration_pieces room d) ≡ true
declaration_filled room (exception_declaration name) = refl
declaration_filled room (constant_declaration name value) = refl
declaration_filled room (pool_declaration name type_name label size) = refl
declaration_filled room (object_declaration name type_name initial) = refl
declaration_filled room (borrower_declaration name designated initial) = refl
declaration_filled room (incomplete_type spot name) = refl
declaration_filled room (access_type spot name designated aspect) = refl
declaration_filled room (record_type spot name r) = refl
declaration_filled room (derived_type spot name parent r) = refl
declaration_filled room (attribute_clause spot name attribute value) = refl
declaration_filled room (specification head) = specification_filled room head
declaration_filled room (body_declaration head ds body end_name) = body_filled room head ds body end_name
declaration_filled room (instance spot name generic designated access) = refl

pub declarations_complete : ((n : ℕ) → Looks n) → {inner : Inner} (room : ℕ) → Holds room inner → (ds : DeclarationsTree) → Complete (declarations_pieces room ds) (declarations_in room inner) (declaration_list ds) (before (reserved word.Begin))
unfolding declarations_in
declarations_complete looks room holds ds = complete_as (all_complete (until_items (reserved word.Begin) (declaration_filled room) (declaration_complete looks room holds) (declaration_leads room no_begin) (λ x. leads_any) leads_same leads_any) (declaration_list ds))
    (declarations_are room ds)
