-- What is written so is read so: statements, of what stands inside one level of nesting.
use Rattle.std.proofs.Common.{◌≡◌, ℕ, zero, suc, Bool, true, false, not, ◌||◌, List, [], ◌∷◌, ◌++◌, Option, Some, None, Ok, refl, sym, ap, subst, ◌∙◌, append_assoc}
use Rattle.std.specs.Prelude.{◌-◌}
use Rattle.std.specs.List.{flat_map}
use Rattle.std.proofs.lemmas.List.Concat.{flat_map-cons}
use Rattle.ada_text.specs.declared.spot.Spot.{Spot}
use Rattle.ada_text.specs.declared.word.Word.TheVariants as word
use Rattle.ada_text.specs.declared.delimiter.Delimiter.TheVariants as mark
use Rattle.ada_text.specs.Token.{Kind, reserved, delimiter, Lexeme}
use Rattle.ada_tree.specs.Piece.{Piece, anywhere, placed, deep, opening, opening_at, guarded, Spelled}
use Rattle.ada_tree.specs.Names.{NameTree, PathTree, path_pieces}
use Rattle.ada_tree.specs.Expressions.{ExpressionTree, RightTree, ArgumentTree, logical, expression_pieces, right_pieces, argument_pieces}
use Rattle.ada_tree.specs.Declarations.{choices_pieces}
use Rattle.ada_tree.specs.Statements.{SchemeTree, endless, while_scheme, for_scheme, DeclarationTree, DeclarationsTree, no_declarations, a_declaration, StatementTree, null_statement, assignment, call, if_statement, loop_statement, exit_statement, return_statement, raise_statement, block, declare_block, StatementsTree, no_statements, a_statement, BranchesTree, no_branches, a_branch, HandlersTree, no_handlers, a_handler, SequenceTree, a_sequence, BranchTree, HandlerTree, declarations_from, statements_from, branches_from, handlers_from, has_statements, begin_of, next_argument_pieces, arguments_pieces, when_pieces, scheme_pieces, otherwise_pieces, exception_pieces, ending_pieces, declaration_pieces, declarations_pieces, statement_pieces, statements_pieces, branches_pieces, more_branches_pieces, handlers_pieces, sequence_pieces}
use Rattle.ada_reader.specs.Step.{◌>>=◌, Phrase, Outcome, is_kind, is_at, at, fixed, nothing, continued, mapped, both, after, choose, all_of, allowed, opening_in}
use Rattle.ada_phrases.specs.Expressions.{path_led}
use Rattle.ada_phrases.specs.Declarations.{cons_from}
use Rattle.ada_phrases.specs.Statements.{Inner, path_at, next_argument_at, arguments_from, arguments_at, assignment_from, call_from, path_statement_at, optional_when_at, null_from, return_from, exit_from, raise_from, simple_statement_at, endless_from, while_from, for_from, scheme_at, at_loop, loop_from, end_loop_at, loop_in, branch_from, branch_in, next_branch_in, branches_in, otherwise_in, end_if_at, if_from, if_in, handler_from, handler_in, some_handlers_in, handlers_in, sequence_from, sequence_in, begin_in, block_from, block_in, declare_block_from, declare_block_in, statement_in, ends_statements, goes_on, statements_in}
use Rattle.ada_parser.proofs.Sound.{is_filled, kind_is}
use Rattle.ada_parser.proofs.Complete.{Follow, Next, any, any_next, unless, before, Leads, Complete, Items, sinks, expected, append_spelled, before_next, leads_first, leads_any, leads_before, complete_as, weaken, never_complete, nothing_complete, mapped_complete, continued_complete, both_complete, choose_true, choose_false, placed_complete, after_complete, opened_complete, opened_at_complete, identifier_complete, all_complete, while_items}
use Rattle.ada_parser.proofs.ExpressionTexts.{past, closing_complete, name_complete, path_complete}
use Rattle.ada_parser.proofs.ItemTexts.{complete_before, past_item}
use Rattle.ada_parser.proofs.RightTexts.{Looks, expression_at_complete, right_complete, argument_complete}
use Rattle.ada_parser.proofs.RecordTexts.{semicolon_complete}
use Rattle.ada_parser.proofs.DeclarationTexts.{leads_open, choices_complete}

-- ---- more about phrases

-- the same value
pub complete_value : {A : Type 0} {ps : List Piece} {p : Phrase A} {x y : A} {f : Follow} → x ≡ y → Complete ps p x f → Complete ps p y f
complete_value {A} {ps} {p} {x} {y} {f} e c = subst (λ (z : A). Complete ps p z f) e c

-- a test that looks at one token
pub choose_true_as : {A : Type 0} {ps : List Piece} {x : A} {f : Follow} (test : List Lexeme → Bool) (kinds : Kind → Bool) (p q : Phrase A) → ((ts : List Lexeme) → test ts ≡ is_at kinds ts) → Complete ps p x f → Leads ps f (record { test = kinds; value = true }) → Complete ps (choose test p q) x f
choose_true_as test kinds p q e c l = record { reads = λ ts rest w n. let h : test ts ≡ true = e ts ∙ l.next ts rest w n in rw h (c.reads ts rest w n) }

pub choose_false_as : {A : Type 0} {ps : List Piece} {x : A} {f : Follow} (test : List Lexeme → Bool) (kinds : Kind → Bool) (p q : Phrase A) → ((ts : List Lexeme) → test ts ≡ is_at kinds ts) → Complete ps q x f → Leads ps f (record { test = kinds; value = false }) → Complete ps (choose test p q) x f
choose_false_as test kinds p q e c l = record { reads = λ ts rest w n. let h : test ts ≡ false = e ts ∙ l.next ts rest w n in rw h (c.reads ts rest w n) }

-- the token that opens a level, whose spot the tree keeps
pub leads_level : {ps : List Piece} {g f : Follow} (k : Kind) (room : ℕ) (spot : Spot) → f.test k ≡ f.value → Leads (opening_at room k spot ∷ ps) g f
leads_level k zero spot e = leads_first e
leads_level k (suc room) spot e = leads_first e

-- such a token, and a phrase behind it
pub opened_both : {A : Type 0} {ps : List Piece} {p : Phrase A} {x : A} {f : Follow} (room : ℕ) (k : Kind) (spot : Spot) → is_kind k k ≡ true → ((less : ℕ) → room ≡ suc less → Complete ps p x f) → Complete (opening_at room k spot ∷ ps) (both (opening_in room k) p) (spot, x) f
opened_both {A} {ps} {p} {x} {f} room k spot e c = opened_at_complete room k spot (λ s. mapped (λ y. (s, y)) p) e (λ less h. mapped_complete (λ y. (spot, y)) (c less h))

opening_reads : (room : ℕ) (k : Kind) (spot : Spot) (ts rest : List Lexeme) → is_kind k k ≡ true → Spelled (opening_at room k spot ∷ []) ts rest → opening_in room k ts ≡ expected (sinks (opening_at room k spot ∷ []) ts) spot rest
unfolding fixed
opening_reads zero k spot [] rest e w = absurd w
opening_reads zero k spot (t ∷ ts) rest e w = let g : is_kind k t.kind ≡ true = ap (is_kind k) w.0 ∙ e in rw g refl
opening_reads (suc room) k spot [] rest e w = absurd w
opening_reads (suc room) k spot (t ∷ ts) rest e w =
    let h : fixed k (t ∷ ts) ≡ Ok (spot, rest) = (placed_complete spot e).reads (t ∷ ts) rest w (any_next rest) in
    ap (λ (o : Outcome Spot). o >>= allowed (suc room)) h

-- such a token alone
opening_complete : (room : ℕ) (k : Kind) (spot : Spot) → is_kind k k ≡ true → Complete (opening_at room k spot ∷ []) (opening_in room k) spot any
opening_complete room k spot e = record { reads = λ ts rest w n. opening_reads room k spot ts rest e w }

deep_reads : {A B : Type 0} (k : Kind) (ps qs : List Piece) (p : Phrase A) (q : A → Phrase B) (x : A) (y : B) (ts rest : List Lexeme) → Complete (deep k ∷ ps) p x any → Spelled (deep k ∷ (ps ++ qs)) ts rest → continued p q ts ≡ expected (sinks (deep k ∷ (ps ++ qs)) ts) y rest
deep_reads k ps qs p q x y [] rest c w = absurd w
deep_reads k ps qs p q x y (t ∷ ts) rest c w = let s = append_spelled ps qs ts rest w.1 in rw (c.reads (t ∷ ts) s.0 (w.0, s.1) (any_next s.0)) refl

-- where a phrase sinks at its first token, what stands behind it is not read
deep_complete : {A B : Type 0} {k : Kind} {ps : List Piece} {p : Phrase A} {x : A} {y : B} {g : Follow} (qs : List Piece) (q : A → Phrase B) → Complete (deep k ∷ ps) p x any → Complete (deep k ∷ (ps ++ qs)) (continued p q) y g
deep_complete {A} {B} {k} {ps} {p} {x} {y} {g} qs q c = record { reads = λ ts rest w n. deep_reads k ps qs p q x y ts rest c w }

-- one of two
abbrev pub either : Kind → Kind → Follow
either a b = record { test = λ k. is_kind a k || is_kind b k; value = true }

either_test : (a b : Kind) (f : Follow) (k : Kind) (c : Bool) → is_kind a k ≡ c → c || is_kind b k ≡ true → f.test a ≡ f.value → f.test b ≡ f.value → f.test k ≡ f.value
either_test a b f k true e h x y = ap f.test (kind_is a k e) ∙ x
either_test a b f k false e h x y = ap f.test (kind_is b k h) ∙ y

either_next : (a b : Kind) (f : Follow) (rest : List Lexeme) → f.test a ≡ f.value → f.test b ≡ f.value → Next (either a b) rest → Next f rest
either_next a b f [] x y n = absurd cc
either_next a b f (t ∷ ts) x y n = either_test a b f t.kind (is_kind a t.kind) refl n x y

leads_either : {f : Follow} (a b : Kind) → f.test a ≡ f.value → f.test b ≡ f.value → Leads [] (either a b) f
leads_either {f} a b x y = record { next = λ ts rest w n. subst (Next f) (sym w) (either_next a b f rest x y n) }

-- ---- lists

abbrev pub statement_list : StatementsTree → List StatementTree
statement_list no_statements = []
statement_list (a_statement s ss) = s ∷ statement_list ss

pub statements_again : (ss : StatementsTree) → statements_from (statement_list ss) ≡ ss
statements_again no_statements = refl
statements_again (a_statement s ss) = ap (a_statement s) (statements_again ss)

pub statements_are : (room : ℕ) (ss : StatementsTree) → statements_pieces room ss ≡ flat_map (statement_pieces room) (statement_list ss)
statements_are room no_statements = refl
statements_are room (a_statement s ss) = ap (λ (us : List Piece). statement_pieces room s ++ us) (statements_are room ss) ∙ sym (flat_map-cons (statement_pieces room) s (statement_list ss))

abbrev pub declaration_list : DeclarationsTree → List DeclarationTree
declaration_list no_declarations = []
declaration_list (a_declaration d ds) = d ∷ declaration_list ds

pub declarations_again : (ds : DeclarationsTree) → declarations_from (declaration_list ds) ≡ ds
declarations_again no_declarations = refl
declarations_again (a_declaration d ds) = ap (a_declaration d) (declarations_again ds)

pub declarations_are : (room : ℕ) (ds : DeclarationsTree) → declarations_pieces room ds ≡ flat_map (declaration_pieces room) (declaration_list ds)
declarations_are room no_declarations = refl
declarations_are room (a_declaration d ds) = ap (λ (us : List Piece). declaration_pieces room d ++ us) (declarations_are room ds) ∙ sym (flat_map-cons (declaration_pieces room) d (declaration_list ds))

abbrev branch_list : BranchesTree → List BranchTree
branch_list no_branches = []
branch_list (a_branch condition statements rest) = record { condition = condition; statements = statements } ∷ branch_list rest

branches_again : (bs : BranchesTree) → branches_from (branch_list bs) ≡ bs
branches_again no_branches = refl
branches_again (a_branch condition statements rest) = ap (a_branch condition statements) (branches_again rest)

abbrev handler_list : HandlersTree → List HandlerTree
handler_list no_handlers = []
handler_list (a_handler spot choices statements rest) = record { spot = spot; choices = choices; statements = statements } ∷ handler_list rest

handlers_again : (hs : HandlersTree) → handlers_from (handler_list hs) ≡ hs
handlers_again no_handlers = refl
handlers_again (a_handler spot choices statements rest) = ap (a_handler spot choices statements) (handlers_again rest)

-- one statement at least
abbrev pub some_statements_pieces : ℕ → StatementsTree → List Piece
some_statements_pieces room ss = guarded (has_statements ss) (statements_pieces room ss)

-- `X then ..`
abbrev branch_pieces : ℕ → BranchTree → List Piece
branch_pieces room b = expression_pieces room b.condition ++ (anywhere (reserved word.Then) ∷ some_statements_pieces room b.statements)

-- `elsif X then ..`
abbrev next_branch_pieces : ℕ → BranchTree → List Piece
next_branch_pieces room b = anywhere (reserved word.Elsif) ∷ branch_pieces room b

more_branches_are : (room : ℕ) (bs : BranchesTree) → more_branches_pieces room bs ≡ flat_map (next_branch_pieces room) (branch_list bs)
more_branches_are room no_branches = refl
more_branches_are room (a_branch condition statements rest) =
    append_assoc (anywhere (reserved word.Elsif) ∷ expression_pieces room condition) (anywhere (reserved word.Then) ∷ some_statements_pieces room statements) (more_branches_pieces room rest) ∙
    ap (λ (us : List Piece). (anywhere (reserved word.Elsif) ∷ expression_pieces room condition) ++ ((anywhere (reserved word.Then) ∷ some_statements_pieces room statements) ++ us)) (more_branches_are room rest) ∙
    sym (append_assoc (anywhere (reserved word.Elsif) ∷ expression_pieces room condition) (anywhere (reserved word.Then) ∷ some_statements_pieces room statements) (flat_map (next_branch_pieces room) (branch_list rest))) ∙
    sym (flat_map-cons (next_branch_pieces room) (record { condition = condition; statements = statements }) (branch_list rest))

-- `when A | B => ..`
abbrev handler_pieces : ℕ → HandlerTree → List Piece
handler_pieces room h = placed (reserved word.When) h.spot ∷ (choices_pieces h.choices ++ (anywhere (delimiter mark.Arrow) ∷ some_statements_pieces room h.statements))

handlers_are : (room : ℕ) (hs : HandlersTree) → handlers_pieces room hs ≡ flat_map (handler_pieces room) (handler_list hs)
handlers_are room no_handlers = refl
handlers_are room (a_handler spot choices statements rest) =
    append_assoc (placed (reserved word.When) spot ∷ choices_pieces choices) (anywhere (delimiter mark.Arrow) ∷ some_statements_pieces room statements) (handlers_pieces room rest) ∙
    ap (λ (us : List Piece). (placed (reserved word.When) spot ∷ choices_pieces choices) ++ ((anywhere (delimiter mark.Arrow) ∷ some_statements_pieces room statements) ++ us)) (handlers_are room rest) ∙
    sym (append_assoc (placed (reserved word.When) spot ∷ choices_pieces choices) (anywhere (delimiter mark.Arrow) ∷ some_statements_pieces room statements) (flat_map (handler_pieces room) (handler_list rest))) ∙
    sym (flat_map-cons (handler_pieces room) (record { spot = spot; choices = choices; statements = statements }) (handler_list rest))

-- ---- what stands behind statements, and inside a level

-- a word that ends statements
abbrev pub is_ending : Kind → Bool
is_ending k =
    is_kind (reserved word.End) k || is_kind (reserved word.Exception) k || is_kind (reserved word.When) k || is_kind (reserved word.Elsif) k ||
    is_kind (reserved word.Else) k

ending_is : (ts : List Lexeme) → ends_statements ts ≡ is_at is_ending ts
ending_is [] = refl
ending_is (t ∷ ts) = refl

-- What stands behind statements.
abbrev pub past_statements : Follow
past_statements = record { test = is_ending; value = true }

-- Statements are read, with room for so many levels of nesting.
abbrev pub Stated : ℕ → Phrase (List StatementTree) → Type 0
Stated room statements = (ss : StatementsTree) → Complete (some_statements_pieces room ss) statements (statement_list ss) past_statements

-- What stands inside a level is read, with room for so many levels more.
pub record Level (room : ℕ) (inner : Inner) : Type 0 where
  pub statements : Stated room inner.statements
  pub declarations : (ds : DeclarationsTree) → Complete (declarations_pieces room ds) inner.declarations (declaration_list ds) (before (reserved word.Begin))

-- What stands inside a level is read, where there is room for one.
abbrev pub Holds : ℕ → Inner → Type 0
Holds room inner = (less : ℕ) → room ≡ suc less → Level (room - 1) inner

-- ---- statements in which no other nests

path_at_complete : (p : PathTree) → Complete (path_pieces p) path_at p (unless (delimiter mark.Dot))
unfolding path_at
path_at_complete p = continued_complete path_led (identifier_complete p.root) (path_complete p.root p.selectors) leads_any

next_argument_complete : ((n : ℕ) → Looks n) → (room : ℕ) (a : ArgumentTree) → Complete (next_argument_pieces room a) (next_argument_at room) a past_item
unfolding next_argument_at
next_argument_complete looks room a = after_complete refl (argument_complete looks room a)

next_arguments_complete : ((n : ℕ) → Looks n) → (room : ℕ) (xs : List ArgumentTree) → Complete (flat_map (next_argument_pieces room) xs) (all_of (at (delimiter mark.Comma)) (next_argument_at room)) xs (before (delimiter mark.RightParenthesis))
next_arguments_complete looks room = all_complete (while_items (delimiter mark.Comma) (λ x. refl) (next_argument_complete looks room) (λ x. leads_first refl) (λ x. leads_first refl) (leads_before (delimiter mark.RightParenthesis) refl) (leads_before (delimiter mark.RightParenthesis) refl))

next_arguments_lead : (room : ℕ) (xs : List ArgumentTree) → Leads (flat_map (next_argument_pieces room) xs ++ anywhere (delimiter mark.RightParenthesis) ∷ []) any past_item
next_arguments_lead room [] = leads_first refl
next_arguments_lead room (x ∷ xs) = leads_first refl

arguments_complete : ((n : ℕ) → Looks n) → (room : ℕ) (x : ArgumentTree) (xs : List ArgumentTree) → Complete (argument_pieces room x ++ (flat_map (next_argument_pieces room) xs ++ anywhere (delimiter mark.RightParenthesis) ∷ [])) (arguments_at room) (x ∷ xs) any
unfolding arguments_at
arguments_complete looks room x xs = mapped_complete arguments_from (both_complete (argument_complete looks room x) (both_complete (next_arguments_complete looks room xs) closing_complete (leads_first refl)) (next_arguments_lead room xs))

assigned_complete : ((n : ℕ) → Looks n) → (room : ℕ) (path : PathTree) (value : RightTree) → Complete (anywhere (delimiter mark.Assign) ∷ (right_pieces room value ++ ending_pieces)) (path_statement_at room path) (assignment path value) any
unfolding path_statement_at
assigned_complete looks room path value = choose_true (mapped_complete (assignment_from path) (after_complete refl (both_complete (right_complete looks room value) semicolon_complete (leads_first refl)))) (leads_first refl)

bare_call_complete : (room : ℕ) (path : PathTree) → Complete ending_pieces (path_statement_at room path) (call path []) any
unfolding path_statement_at
bare_call_complete room path = choose_false (choose_false (mapped_complete (λ _. call path []) semicolon_complete) (leads_first refl)) (leads_first refl)

called_complete : ((n : ℕ) → Looks n) → (room : ℕ) (path : PathTree) (x : ArgumentTree) (xs : List ArgumentTree) → Complete ((opening room (delimiter mark.LeftParenthesis) ∷ (argument_pieces (room - 1) x ++ (flat_map (next_argument_pieces (room - 1)) xs ++ anywhere (delimiter mark.RightParenthesis) ∷ []))) ++ ending_pieces) (path_statement_at room path) (call path (x ∷ xs)) any
unfolding path_statement_at
called_complete looks room path x xs = choose_false (choose_true (mapped_complete (call_from path) (both_complete
    (opened_complete room (delimiter mark.LeftParenthesis) refl (λ less e. arguments_complete looks (room - 1) x xs)) semicolon_complete leads_any))
    (leads_open (delimiter mark.LeftParenthesis) room refl)) (leads_open (delimiter mark.LeftParenthesis) room refl)

when_complete : ((n : ℕ) → Looks n) → (room : ℕ) (v : Option ExpressionTree) → Complete (when_pieces room v) (optional_when_at room) v (before (delimiter mark.Semicolon))
unfolding optional_when_at
when_complete looks room None = choose_false (weaken (mapped_complete (λ _. None) nothing_complete)) (leads_before (delimiter mark.Semicolon) refl)
when_complete looks room (Some e) = choose_true (mapped_complete Some (after_complete refl (complete_before (expression_at_complete looks room e)
    (λ rest n. before_next (delimiter mark.Semicolon) (past logical) rest refl n)))) (leads_first refl)

-- behind a path
by_path : (room : ℕ) (path : PathTree) (s : StatementTree) (ps : List Piece) → Complete ps (path_statement_at room path) s any → Leads ps any (unless (delimiter mark.Dot)) → Complete (path_pieces path ++ ps) (simple_statement_at room) s any
unfolding simple_statement_at
by_path room path s ps c l = choose_false (choose_false (choose_false (choose_false
    (continued_complete (path_statement_at room) (path_at_complete path) c l) (leads_first refl)) (leads_first refl)) (leads_first refl)) (leads_first refl)

null_complete : (room : ℕ) (spot : Spot) → Complete (statement_pieces room (null_statement spot)) (simple_statement_at room) (null_statement spot) any
unfolding simple_statement_at
null_complete room spot = choose_true (mapped_complete null_from (both_complete (placed_complete spot refl) semicolon_complete leads_any)) (leads_first refl)

exit_complete : ((n : ℕ) → Looks n) → (room : ℕ) (spot : Spot) (condition : Option ExpressionTree) → Complete (statement_pieces room (exit_statement spot condition)) (simple_statement_at room) (exit_statement spot condition) any
unfolding simple_statement_at
exit_complete looks room spot condition = choose_false (choose_true (mapped_complete exit_from (both_complete (placed_complete spot refl)
    (both_complete (when_complete looks room condition) semicolon_complete (leads_first refl)) leads_any)) (leads_first refl)) (leads_first refl)

return_complete : (room : ℕ) (spot : Spot) → Complete (statement_pieces room (return_statement spot)) (simple_statement_at room) (return_statement spot) any
unfolding simple_statement_at
return_complete room spot = choose_false (choose_false (choose_true (mapped_complete return_from (both_complete (placed_complete spot refl) semicolon_complete leads_any)) (leads_first refl)) (leads_first refl)) (leads_first refl)

raise_complete : (room : ℕ) (spot : Spot) (name : NameTree) → Complete (statement_pieces room (raise_statement spot name)) (simple_statement_at room) (raise_statement spot name) any
unfolding simple_statement_at
raise_complete room spot name = choose_false (choose_false (choose_false (choose_true (mapped_complete raise_from (both_complete (placed_complete spot refl)
    (both_complete (name_complete name) semicolon_complete (leads_first refl)) leads_any)) (leads_first refl)) (leads_first refl)) (leads_first refl)) (leads_first refl)

assignment_complete : ((n : ℕ) → Looks n) → (room : ℕ) (path : PathTree) (value : RightTree) → Complete (statement_pieces room (assignment path value)) (simple_statement_at room) (assignment path value) any
assignment_complete looks room path value = complete_as (by_path room path _ _ (assigned_complete looks room path value) (leads_first refl)) (simp append_assoc)

call_complete : ((n : ℕ) → Looks n) → (room : ℕ) (path : PathTree) (arguments : List ArgumentTree) → Complete (statement_pieces room (call path arguments)) (simple_statement_at room) (call path arguments) any
call_complete looks room path [] = complete_as (by_path room path _ _ (bare_call_complete room path) (leads_first refl)) (append_assoc (path_pieces path) [] ending_pieces)
call_complete looks room path (x ∷ xs) = complete_as (by_path room path _ _ (called_complete looks room path x xs) (leads_open (delimiter mark.LeftParenthesis) room refl))
    (append_assoc (path_pieces path) (arguments_pieces room (x ∷ xs)) ending_pieces ∙
    ap (λ (us : List Piece). path_pieces path ++ ((opening room (delimiter mark.LeftParenthesis) ∷ us) ++ ending_pieces)) (append_assoc (argument_pieces (room - 1) x) (flat_map (next_argument_pieces (room - 1)) xs) (anywhere (delimiter mark.RightParenthesis) ∷ [])))

-- ---- loops

loop_word_complete : Complete (anywhere (reserved word.Loop) ∷ []) (after (reserved word.Loop) nothing) tt any
loop_word_complete = after_complete refl nothing_complete

scheme_complete : ((n : ℕ) → Looks n) → (room : ℕ) (spot : Spot) (scheme : SchemeTree) → Complete (scheme_pieces room spot scheme) (scheme_at room) (spot, scheme) any
unfolding scheme_at
scheme_complete looks room spot endless = choose_false (choose_false (mapped_complete endless_from (opening_complete room (reserved word.Loop) spot refl))
    (leads_level (reserved word.Loop) room spot refl)) (leads_level (reserved word.Loop) room spot refl)
scheme_complete looks room spot (while_scheme e) = choose_true (mapped_complete while_from (opened_both room (reserved word.While) spot refl
    (λ less h. both_complete (expression_at_complete looks (room - 1) e) loop_word_complete (leads_first refl)))) (leads_level (reserved word.While) room spot refl)
scheme_complete looks room spot (for_scheme i first last) = complete_as (choose_false (choose_true (mapped_complete for_from (opened_both room (reserved word.For) spot refl
    (λ less h. both_complete (identifier_complete i) (after_complete refl (both_complete (expression_at_complete looks (room - 1) first)
    (after_complete refl (both_complete (expression_at_complete looks (room - 1) last) loop_word_complete (leads_first refl))) (leads_first refl))) leads_any)))
    (leads_level (reserved word.For) room spot refl)) (leads_level (reserved word.For) room spot refl)) (simp append_assoc)

-- a scheme, and what stands inside its level
scheme_then : {A : Type 0} {qs : List Piece} {y : A} {g : Follow} → ((n : ℕ) → Looks n) → (room : ℕ) (spot : Spot) (scheme : SchemeTree) (q : Spot × SchemeTree → Phrase A) → ((less : ℕ) → room ≡ suc less → Complete qs (q (spot, scheme)) y g) → Complete (scheme_pieces room spot scheme ++ qs) (continued (scheme_at room) q) y g
scheme_then looks zero spot endless q c = deep_complete _ q (scheme_complete looks zero spot endless)
scheme_then looks zero spot (while_scheme e) q c = deep_complete _ q (scheme_complete looks zero spot (while_scheme e))
scheme_then looks zero spot (for_scheme i first last) q c = deep_complete _ q (scheme_complete looks zero spot (for_scheme i first last))
scheme_then looks (suc room) spot scheme q c = continued_complete q (scheme_complete looks (suc room) spot scheme) (c room refl) leads_any

end_loop_complete : (last : Spot) → Complete (placed (reserved word.End) last ∷ anywhere (reserved word.Loop) ∷ ending_pieces) end_loop_at (last, tt) any
unfolding end_loop_at
end_loop_complete last = both_complete (placed_complete last refl) (after_complete refl semicolon_complete) leads_any

loop_complete : ((n : ℕ) → Looks n) → {inner : Inner} (room : ℕ) → Holds room inner → (spot : Spot) (scheme : SchemeTree) (ss : StatementsTree) (last : Spot) → Complete (statement_pieces room (loop_statement spot scheme ss last)) (loop_in room inner.statements) (loop_statement spot scheme ss last) any
unfolding loop_in
loop_complete looks {inner} room holds spot scheme ss last = complete_as (complete_value (ap (λ xs. loop_statement spot scheme xs last) (statements_again ss))
    (mapped_complete loop_from (scheme_then looks room spot scheme (λ z. mapped (λ y. (z, y)) (both inner.statements end_loop_at))
    (λ less e. mapped_complete (λ y. ((spot, scheme), y)) (both_complete ((holds less e).statements ss) (end_loop_complete last) (leads_first refl))))))
    (append_assoc (scheme_pieces room spot scheme) (some_statements_pieces (room - 1) ss) (placed (reserved word.End) last ∷ anywhere (reserved word.Loop) ∷ ending_pieces))

-- ---- conditions

branch_complete : ((n : ℕ) → Looks n) → {statements : Phrase (List StatementTree)} (room : ℕ) → Stated (room - 1) statements → (b : BranchTree) → Complete (branch_pieces (room - 1) b) (branch_in room statements) b past_statements
unfolding branch_in
branch_complete looks room stated b = complete_value (ap (λ xs. record { condition = b.condition; statements = xs }) (statements_again b.statements))
    (mapped_complete branch_from (both_complete (expression_at_complete looks (room - 1) b.condition) (after_complete refl (stated b.statements)) (leads_first refl)))

next_branch_complete : ((n : ℕ) → Looks n) → {statements : Phrase (List StatementTree)} (room : ℕ) → Stated (room - 1) statements → (b : BranchTree) → Complete (next_branch_pieces (room - 1) b) (next_branch_in room statements) b past_statements
unfolding next_branch_in
next_branch_complete looks room stated b = after_complete refl (branch_complete looks room stated b)

next_branches_complete : ((n : ℕ) → Looks n) → {statements : Phrase (List StatementTree)} (room : ℕ) → Stated (room - 1) statements → (bs : List BranchTree) → Complete (flat_map (next_branch_pieces (room - 1)) bs) (all_of (at (reserved word.Elsif)) (next_branch_in room statements)) bs (either (reserved word.Else) (reserved word.End))
next_branches_complete looks room stated = all_complete (while_items (reserved word.Elsif) (λ x. refl) (next_branch_complete looks room stated) (λ x. leads_first refl) (λ x. leads_first refl)
    (leads_either (reserved word.Else) (reserved word.End) refl refl) (leads_either (reserved word.Else) (reserved word.End) refl refl))

next_branches_lead : (room : ℕ) (bs : List BranchTree) → Leads (flat_map (next_branch_pieces room) bs) (either (reserved word.Else) (reserved word.End)) past_statements
next_branches_lead room [] = leads_either (reserved word.Else) (reserved word.End) refl refl
next_branches_lead room (b ∷ bs) = leads_first refl

branches_complete : ((n : ℕ) → Looks n) → {statements : Phrase (List StatementTree)} (room : ℕ) → Stated (room - 1) statements → (bs : BranchesTree) → Complete (branches_pieces (room - 1) bs) (branches_in room statements) (branch_list bs) (either (reserved word.Else) (reserved word.End))
unfolding branches_in
branches_complete looks room stated no_branches = never_complete []
branches_complete looks room stated (a_branch condition ss rest) = complete_as (mapped_complete cons_from (both_complete
    (branch_complete looks room stated (record { condition = condition; statements = ss })) (next_branches_complete looks room stated (branch_list rest)) (next_branches_lead (room - 1) (branch_list rest))))
    (ap (λ (us : List Piece). branch_pieces (room - 1) (record { condition = condition; statements = ss }) ++ us) (more_branches_are (room - 1) rest))

otherwise_complete : {statements : Phrase (List StatementTree)} (room : ℕ) → Stated room statements → (ss : StatementsTree) → Complete (otherwise_pieces ss (statements_pieces room ss)) (otherwise_in statements) (statement_list ss) (before (reserved word.End))
unfolding otherwise_in
otherwise_complete room stated no_statements = choose_false (weaken (mapped_complete (λ _. []) nothing_complete)) (leads_before (reserved word.End) refl)
otherwise_complete room stated (a_statement s ss) = choose_true (after_complete refl (complete_before (stated (a_statement s ss)) (λ rest n. before_next (reserved word.End) past_statements rest refl n))) (leads_first refl)

otherwise_leads : (ss : StatementsTree) (ps qs : List Piece) (last : Spot) → Leads (otherwise_pieces ss ps ++ (placed (reserved word.End) last ∷ qs)) any (either (reserved word.Else) (reserved word.End))
otherwise_leads no_statements ps qs last = leads_first refl
otherwise_leads (a_statement s ss) ps qs last = leads_first refl

end_if_complete : (last : Spot) → Complete (placed (reserved word.End) last ∷ anywhere (reserved word.If) ∷ ending_pieces) end_if_at (last, tt) any
unfolding end_if_at
end_if_complete last = both_complete (placed_complete last refl) (after_complete refl semicolon_complete) leads_any

if_again : (spot : Spot) (bs : BranchesTree) (ss : StatementsTree) (last : Spot) → if_statement spot (branches_from (branch_list bs)) (statements_from (statement_list ss)) last ≡ if_statement spot bs ss last
if_again spot bs ss last = rw (branches_again bs, statements_again ss) refl

if_complete : ((n : ℕ) → Looks n) → {inner : Inner} (room : ℕ) → Holds room inner → (spot : Spot) (bs : BranchesTree) (ss : StatementsTree) (last : Spot) → Complete (statement_pieces room (if_statement spot bs ss last)) (if_in room inner.statements) (if_statement spot bs ss last) any
unfolding if_in
if_complete looks {inner} room holds spot bs ss last = complete_as (complete_value (if_again spot bs ss last)
    (mapped_complete if_from (opened_both room (reserved word.If) spot refl (λ less e.
    both_complete (branches_complete looks room (holds less e).statements bs) (both_complete (otherwise_complete (room - 1) (holds less e).statements ss) (end_if_complete last) (leads_first refl))
    (otherwise_leads ss (statements_pieces (room - 1) ss) (anywhere (reserved word.If) ∷ ending_pieces) last)))))
    (append_assoc (opening_at room (reserved word.If) spot ∷ branches_pieces (room - 1) bs) (otherwise_pieces ss (statements_pieces (room - 1) ss)) (placed (reserved word.End) last ∷ anywhere (reserved word.If) ∷ ending_pieces))

-- ---- handlers and blocks

handler_complete : {statements : Phrase (List StatementTree)} (room : ℕ) → Stated room statements → (h : HandlerTree) → Complete (handler_pieces room h) (handler_in statements) h past_statements
unfolding handler_in
handler_complete room stated h = complete_value (ap (λ xs. record { spot = h.spot; choices = h.choices; statements = xs }) (statements_again h.statements))
    (mapped_complete handler_from (both_complete (placed_complete h.spot refl) (both_complete (choices_complete h.choices) (after_complete refl (stated h.statements)) (leads_first refl)) leads_any))

some_handlers_complete : {statements : Phrase (List StatementTree)} (room : ℕ) → Stated room statements → (h : HandlerTree) (hs : List HandlerTree) → Complete (flat_map (handler_pieces room) (h ∷ hs)) (some_handlers_in statements) (h ∷ hs) (before (reserved word.End))
unfolding some_handlers_in
some_handlers_complete room stated h hs = choose_true (all_complete (while_items (reserved word.When) (λ x. refl) (handler_complete room stated) (λ x. leads_first refl) (λ x. leads_first refl)
    (leads_before (reserved word.End) refl) (leads_before (reserved word.End) refl)) (h ∷ hs)) (leads_first refl)

handlers_complete : {statements : Phrase (List StatementTree)} (room : ℕ) → Stated room statements → (hs : HandlersTree) → Complete (exception_pieces hs (handlers_pieces room hs)) (handlers_in statements) (handler_list hs) (before (reserved word.End))
unfolding handlers_in
handlers_complete room stated no_handlers = choose_false (weaken (mapped_complete (λ _. []) nothing_complete)) (leads_before (reserved word.End) refl)
handlers_complete room stated (a_handler spot choices ss rest) = complete_as (choose_true (after_complete refl
    (some_handlers_complete room stated (record { spot = spot; choices = choices; statements = ss }) (handler_list rest))) (leads_first refl))
    (ap (λ (us : List Piece). anywhere (reserved word.Exception) ∷ us) (handlers_are room (a_handler spot choices ss rest)))

exception_leads : (hs : HandlersTree) (ps : List Piece) (last : Spot) → Leads (exception_pieces hs ps ++ placed (reserved word.End) last ∷ []) any past_statements
exception_leads no_handlers ps last = leads_first refl
exception_leads (a_handler spot choices ss rest) ps last = leads_first refl

sequence_again : (start : Spot) (ss : StatementsTree) (hs : HandlersTree) (last : Spot) → a_sequence start (statements_from (statement_list ss)) (handlers_from (handler_list hs)) last ≡ a_sequence start ss hs last
sequence_again start ss hs last = rw (statements_again ss, handlers_again hs) refl

sequence_complete : {statements : Phrase (List StatementTree)} (room : ℕ) → Stated room statements → (body : SequenceTree) → Complete (sequence_pieces room body) (sequence_in statements (begin_of body)) body any
unfolding sequence_in
sequence_complete room stated (a_sequence start ss hs last) = complete_as (complete_value (sequence_again start ss hs last)
    (mapped_complete (sequence_from start) (both_complete (stated ss) (both_complete (handlers_complete room stated hs) (placed_complete last refl) (leads_first refl)) (exception_leads hs (handlers_pieces room hs) last))))
    (append_assoc (some_statements_pieces room ss) (exception_pieces hs (handlers_pieces room hs)) (placed (reserved word.End) last ∷ []))

pub begin_complete : {statements : Phrase (List StatementTree)} (room : ℕ) → Stated room statements → (body : SequenceTree) → Complete (placed (reserved word.Begin) (begin_of body) ∷ sequence_pieces room body) (begin_in statements) body any
unfolding begin_in
begin_complete room stated body = continued_complete (sequence_in _) (placed_complete (begin_of body) refl) (sequence_complete room stated body) leads_any

block_complete : {inner : Inner} (room : ℕ) → Holds room inner → (body : SequenceTree) → Complete (statement_pieces room (block body)) (block_in room inner.statements) (block body) any
unfolding block_in
block_complete {inner} room holds body = mapped_complete block_from (both_complete
    (opened_at_complete room (reserved word.Begin) (begin_of body) (sequence_in inner.statements) refl (λ less e. sequence_complete (room - 1) (holds less e).statements body)) semicolon_complete leads_any)

declare_complete : {inner : Inner} (room : ℕ) → Holds room inner → (spot : Spot) (ds : DeclarationsTree) (body : SequenceTree) → Complete (statement_pieces room (declare_block spot ds body)) (declare_block_in room inner) (declare_block spot ds body) any
unfolding declare_block_in
declare_complete {inner} room holds spot ds body = complete_as (complete_value (ap (λ xs. declare_block spot xs body) (declarations_again ds))
    (mapped_complete declare_block_from (opened_both room (reserved word.Declare) spot refl (λ less e.
    both_complete ((holds less e).declarations ds) (both_complete (begin_complete (room - 1) (holds less e).statements body) semicolon_complete leads_any) (leads_first refl)))))
    (append_assoc (opening_at room (reserved word.Declare) spot ∷ declarations_pieces (room - 1) ds) (placed (reserved word.Begin) (begin_of body) ∷ sequence_pieces (room - 1) body) ending_pieces)

-- ---- statements

-- a word that begins a loop
abbrev is_loop : Kind → Bool
is_loop k = is_kind (reserved word.Loop) k || is_kind (reserved word.While) k || is_kind (reserved word.For) k

loop_is : (ts : List Lexeme) → at_loop ts ≡ is_at is_loop ts
loop_is [] = refl
loop_is (t ∷ ts) = refl

scheme_leads : {f : Follow} (room : ℕ) (spot : Spot) (scheme : SchemeTree) (qs : List Piece) → f.test (reserved word.Loop) ≡ f.value → f.test (reserved word.While) ≡ f.value → f.test (reserved word.For) ≡ f.value → {g : Follow} → Leads (scheme_pieces room spot scheme ++ qs) g f
scheme_leads room spot endless qs a b c = leads_level (reserved word.Loop) room spot a
scheme_leads room spot (while_scheme e) qs a b c = leads_level (reserved word.While) room spot b
scheme_leads room spot (for_scheme i first last) qs a b c = leads_level (reserved word.For) room spot c

loop_leads : {f : Follow} (room : ℕ) (spot : Spot) (scheme : SchemeTree) (ss : StatementsTree) (last : Spot) → f.test (reserved word.Loop) ≡ f.value → f.test (reserved word.While) ≡ f.value → f.test (reserved word.For) ≡ f.value → {g : Follow} → Leads (statement_pieces room (loop_statement spot scheme ss last)) g f
loop_leads {f} room spot scheme ss last a b c {g} = subst (λ (us : List Piece). Leads us g f) (sym (append_assoc (scheme_pieces room spot scheme) (some_statements_pieces (room - 1) ss) (placed (reserved word.End) last ∷ anywhere (reserved word.Loop) ∷ ending_pieces)))
    (scheme_leads room spot scheme _ a b c)

simple_complete : {ps : List Piece} {s : StatementTree} (room : ℕ) (inner : Inner) → Complete ps (simple_statement_at room) s any → Leads ps any (unless (reserved word.If)) → Leads ps any (record { test = is_loop; value = false }) → Leads ps any (unless (reserved word.Begin)) → Leads ps any (unless (reserved word.Declare)) → Complete ps (statement_in room inner) s any
unfolding statement_in
simple_complete room inner c a b d e = choose_false (choose_false_as at_loop is_loop _ _ loop_is (choose_false (choose_false c e) d) b) a

pub statement_complete : ((n : ℕ) → Looks n) → {inner : Inner} (room : ℕ) → Holds room inner → (s : StatementTree) → Complete (statement_pieces room s) (statement_in room inner) s any
unfolding statement_in
statement_complete looks room holds (null_statement spot) = simple_complete room _ (null_complete room spot) (leads_first refl) (leads_first refl) (leads_first refl) (leads_first refl)
statement_complete looks room holds (assignment target value) = simple_complete room _ (assignment_complete looks room target value) (leads_first refl) (leads_first refl) (leads_first refl) (leads_first refl)
statement_complete looks room holds (call procedure arguments) = simple_complete room _ (call_complete looks room procedure arguments) (leads_first refl) (leads_first refl) (leads_first refl) (leads_first refl)
statement_complete looks room holds (exit_statement spot condition) = simple_complete room _ (exit_complete looks room spot condition) (leads_first refl) (leads_first refl) (leads_first refl) (leads_first refl)
statement_complete looks room holds (return_statement spot) = simple_complete room _ (return_complete room spot) (leads_first refl) (leads_first refl) (leads_first refl) (leads_first refl)
statement_complete looks room holds (raise_statement spot name) = simple_complete room _ (raise_complete room spot name) (leads_first refl) (leads_first refl) (leads_first refl) (leads_first refl)
statement_complete looks room holds (if_statement spot bs ss last) = choose_true (if_complete looks room holds spot bs ss last) (leads_level (reserved word.If) room spot refl)
statement_complete looks room holds (loop_statement spot scheme ss last) = choose_false (choose_true_as at_loop is_loop _ _ loop_is (loop_complete looks room holds spot scheme ss last)
    (loop_leads room spot scheme ss last refl refl refl)) (loop_leads room spot scheme ss last refl refl refl)
statement_complete looks room holds (block body) = choose_false (choose_false_as at_loop is_loop _ _ loop_is (choose_true (block_complete room holds body)
    (leads_level (reserved word.Begin) room (begin_of body) refl)) (leads_level (reserved word.Begin) room (begin_of body) refl)) (leads_level (reserved word.Begin) room (begin_of body) refl)
statement_complete looks room holds (declare_block spot ds body) = choose_false (choose_false_as at_loop is_loop _ _ loop_is (choose_false (choose_true (declare_complete room holds spot ds body)
    (leads_level (reserved word.Declare) room spot refl)) (leads_level (reserved word.Declare) room spot refl)) (leads_level (reserved word.Declare) room spot refl)) (leads_level (reserved word.Declare) room spot refl)

-- no statement begins with a word that ends statements
statement_leads : {g : Follow} (room : ℕ) (s : StatementTree) → Leads (statement_pieces room s) g (record { test = is_ending; value = false })
statement_leads room (null_statement spot) = leads_first refl
statement_leads room (assignment target value) = leads_first refl
statement_leads room (call procedure arguments) = leads_first refl
statement_leads room (exit_statement spot condition) = leads_first refl
statement_leads room (return_statement spot) = leads_first refl
statement_leads room (raise_statement spot name) = leads_first refl
statement_leads room (if_statement spot bs ss last) = leads_level (reserved word.If) room spot refl
statement_leads room (loop_statement spot scheme ss last) = loop_leads room spot scheme ss last refl refl refl
statement_leads room (block body) = leads_level (reserved word.Begin) room (begin_of body) refl
statement_leads room (declare_block spot ds body) = leads_level (reserved word.Declare) room spot refl

statement_filled : (room : ℕ) (s : StatementTree) → is_filled (statement_pieces room s) ≡ true
statement_filled room (null_statement spot) = refl
statement_filled room (assignment target value) = refl
statement_filled room (call procedure arguments) = refl
statement_filled room (exit_statement spot condition) = refl
statement_filled room (return_statement spot) = refl
statement_filled room (raise_statement spot name) = refl
statement_filled room (if_statement spot bs ss last) = refl
statement_filled room (loop_statement spot endless ss last) = refl
statement_filled room (loop_statement spot (while_scheme e) ss last) = refl
statement_filled room (loop_statement spot (for_scheme i first second) ss last) = refl
statement_filled room (block body) = refl
statement_filled room (declare_block spot ds body) = refl

statement_items : ((n : ℕ) → Looks n) → {inner : Inner} (room : ℕ) → Holds room inner → Items (statement_pieces room) (statement_in room inner) goes_on any past_statements
statement_items looks room holds = record {
  filled = statement_filled room;
  each = statement_complete looks room holds;
  starts = λ s ts rest w. ap not (ending_is ts ∙ (statement_leads {g = any} room s).next ts rest w (any_next rest));
  again = λ s. leads_any;
  ends = λ rest n. ap not (ending_is rest ∙ n);
  last = leads_any;
}

statements_lead : {g : Follow} (room : ℕ) (s : StatementTree) (ss : List StatementTree) → Leads (flat_map (statement_pieces room) (s ∷ ss)) g (record { test = is_ending; value = false })
statements_lead {g} room s ss = subst (λ (us : List Piece). Leads us g (record { test = is_ending; value = false })) (sym (flat_map-cons (statement_pieces room) s ss))
    (record { next = λ ts rest w n. let a = append_spelled (statement_pieces room s) (flat_map (statement_pieces room) ss) ts rest w in (statement_leads {g = any} room s).next ts a.0 a.1 (any_next a.0) })

pub statements_complete : ((n : ℕ) → Looks n) → {inner : Inner} (room : ℕ) → Holds room inner → Stated room (statements_in room inner)
unfolding statements_in
statements_complete looks room holds no_statements = never_complete []
statements_complete looks room holds (a_statement s ss) = complete_as (choose_false_as ends_statements is_ending _ _ ending_is
    (all_complete (statement_items looks room holds) (s ∷ statement_list ss)) (statements_lead room s (statement_list ss))) (statements_are room (a_statement s ss))
