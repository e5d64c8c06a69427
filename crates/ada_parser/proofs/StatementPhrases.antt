-- What is read is written so: statements, of what stands inside a level of nesting.
use Rattle.std.proofs.Common.{◌≡◌, ℕ, ◌-◌, true, List, [], ◌∷◌, ◌++◌, Some, None, refl, sym, ap, ◌∙◌, append_assoc}
use Rattle.std.specs.List.{flat_map}
use Rattle.std.proofs.lemmas.List.Concat.{flat_map-cons}
use Rattle.ada_text.specs.declared.spot.Spot.{Spot}
use Rattle.ada_text.specs.declared.word.Word.TheVariants as word
use Rattle.ada_text.specs.declared.delimiter.Delimiter.TheVariants as mark
use Rattle.ada_text.specs.Token.{identifier, reserved, delimiter}
use Rattle.ada_tree.specs.Piece.{Piece, anywhere, placed, never, opening, opening_at, guarded}
use Rattle.ada_tree.specs.Names.{PathTree, path_pieces}
use Rattle.ada_tree.specs.Expressions.{ArgumentTree, expression_pieces, argument_pieces}
use Rattle.ada_tree.specs.Declarations.{choices_pieces}
use Rattle.ada_tree.specs.Statements.{SchemeTree, endless, while_scheme, for_scheme, DeclarationTree, StatementTree, null_statement, assignment, call, if_statement, loop_statement, exit_statement, return_statement, raise_statement, block, declare_block, SequenceTree, BranchTree, HandlerTree, declarations_from, statements_from, branches_from, handlers_from, has_statements, begin_of, next_argument_pieces, arguments_pieces, when_pieces, scheme_pieces, otherwise_pieces, exception_pieces, ending_pieces, declarations_pieces, statement_pieces, statements_pieces, branches_pieces, more_branches_pieces, handlers_pieces, sequence_pieces}
use Rattle.ada_reader.specs.Step.{Phrase, at, opened}
use Rattle.ada_phrases.specs.Declarations.{cons_from}
use Rattle.ada_phrases.specs.Statements.{Inner, path_at, next_argument_at, arguments_from, arguments_at, assignment_from, call_from, path_statement_at, optional_when_at, null_from, return_from, exit_from, raise_from, simple_statement_at, endless_from, while_from, for_from, scheme_at, at_loop, loop_from, end_loop_at, loop_in, branch_from, branch_in, next_branch_in, branches_in, otherwise_in, end_if_at, if_from, if_in, handler_from, handler_in, some_handlers_in, handlers_in, sequence_from, sequence_in, begin_in, block_from, block_in, declare_block_from, declare_block_in, statement_in, ends_statements, goes_on, statements_in}
use Rattle.ada_parser.proofs.Sound.{Able, is_filled, Sound, Goes, nothing_sound, mapped_goes, mapped_sound, continued_sound, both_sound, choose_goes, choose_sound, sound_as, all_sound, placed_sound, after_sound, identifier_sound, opening_sound, opened_sound}
use Rattle.ada_parser.proofs.ExpressionPhrases.{name_sound, path_goes, expression_sound}
use Rattle.ada_parser.proofs.RightPhrases.{right_sound, argument_sound}
use Rattle.ada_parser.proofs.Lists.{some_pieces, some_sound, unended_sound}
use Rattle.ada_parser.proofs.DeclarationPhrases.{end_sound, choices_sound}

path_sound : Sound path_pieces path_at
unfolding path_at
path_sound = continued_sound path_pieces _ identifier_sound (λ i able. path_goes i)

next_argument_sound : (room : ℕ) → Sound (next_argument_pieces room) (next_argument_at room)
unfolding next_argument_at
next_argument_sound room = after_sound (delimiter mark.Comma) refl (argument_sound room)

-- what stands behind the `(` of a call
abbrev inside_arguments_pieces : ℕ → List ArgumentTree → List Piece
inside_arguments_pieces room [] = never ∷ []
inside_arguments_pieces room (a ∷ rest) = argument_pieces room a ++ (flat_map (next_argument_pieces room) rest ++ anywhere (delimiter mark.RightParenthesis) ∷ [])

arguments_sound : (room : ℕ) → Sound (inside_arguments_pieces room) (arguments_at room)
unfolding arguments_at
arguments_sound room = mapped_sound (inside_arguments_pieces room) arguments_from
    (both_sound (argument_sound room) (both_sound (all_sound (at (delimiter mark.Comma)) (λ t ts us. refl) (λ x able. refl) (next_argument_sound room))
    (after_sound (delimiter mark.RightParenthesis) refl nothing_sound)))
    (λ x able. refl)

opened_arguments : (opened first more close : List Piece) → opened ++ first ++ more ++ close ≡ opened ++ (first ++ (more ++ close))
opened_arguments opened first more close = simp append_assoc

arguments_are : (room : ℕ) (xs : List ArgumentTree) → Able (opening room (delimiter mark.LeftParenthesis) ∷ inside_arguments_pieces (room - 1) xs) → arguments_pieces room xs ≡ opening room (delimiter mark.LeftParenthesis) ∷ inside_arguments_pieces (room - 1) xs
arguments_are room [] able = absurd able.1.0
arguments_are room (a ∷ rest) able = opened_arguments (opening room (delimiter mark.LeftParenthesis) ∷ []) (argument_pieces (room - 1) a) (flat_map (next_argument_pieces (room - 1)) rest) (anywhere (delimiter mark.RightParenthesis) ∷ [])

opened_arguments_sound : (room : ℕ) → Sound (arguments_pieces room) (opened room (delimiter mark.LeftParenthesis) (arguments_at (room - 1)))
opened_arguments_sound room = sound_as (arguments_pieces room) (opened_sound room (delimiter mark.LeftParenthesis) refl (arguments_sound (room - 1))) (arguments_are room)

path_statement_goes : (room : ℕ) (path : PathTree) → Goes (path_pieces path) (statement_pieces room) (path_statement_at room path)
unfolding path_statement_at
path_statement_goes room path =
    choose_goes (path_pieces path) (statement_pieces room) (at (delimiter mark.Assign)) _ _ (λ t ts us. refl)
    (mapped_goes (path_pieces path) (statement_pieces room) (assignment_from path) (after_sound (delimiter mark.Assign) refl (both_sound (right_sound room) end_sound)) (λ x able. simp append_assoc))
    (choose_goes (path_pieces path) (statement_pieces room) (at (delimiter mark.LeftParenthesis)) _ _ (λ t ts us. refl)
    (mapped_goes (path_pieces path) (statement_pieces room) (call_from path) (both_sound (opened_arguments_sound room) end_sound)
    (λ x able. append_assoc (path_pieces path) (arguments_pieces room x.0) ending_pieces))
    (mapped_goes (path_pieces path) (statement_pieces room) (λ _. call path []) end_sound (λ x able. append_assoc (path_pieces path) [] ending_pieces)))

optional_when_sound : (room : ℕ) → Sound (when_pieces room) (optional_when_at room)
unfolding optional_when_at
optional_when_sound room = choose_sound (when_pieces room) (at (reserved word.When)) _ _ (λ t ts us. refl)
    (mapped_sound (when_pieces room) Some (after_sound (reserved word.When) refl (expression_sound room)) (λ x able. refl))
    (mapped_sound (when_pieces room) (λ _. None) nothing_sound (λ x able. refl))

pub simple_statement_sound : (room : ℕ) → Sound (statement_pieces room) (simple_statement_at room)
unfolding simple_statement_at
simple_statement_sound room =
    choose_sound (statement_pieces room) (at (reserved word.Null)) _ _ (λ t ts us. refl)
    (mapped_sound (statement_pieces room) null_from (both_sound (placed_sound (reserved word.Null) refl) end_sound) (λ x able. refl))
    (choose_sound (statement_pieces room) (at (reserved word.Exit)) _ _ (λ t ts us. refl)
    (mapped_sound (statement_pieces room) exit_from (both_sound (placed_sound (reserved word.Exit) refl) (both_sound (optional_when_sound room) end_sound)) (λ x able. refl))
    (choose_sound (statement_pieces room) (at (reserved word.Return)) _ _ (λ t ts us. refl)
    (mapped_sound (statement_pieces room) return_from (both_sound (placed_sound (reserved word.Return) refl) end_sound) (λ x able. refl))
    (choose_sound (statement_pieces room) (at (reserved word.Raise)) _ _ (λ t ts us. refl)
    (mapped_sound (statement_pieces room) raise_from (both_sound (placed_sound (reserved word.Raise) refl) (both_sound name_sound end_sound)) (λ x able. simp append_assoc))
    (continued_sound (statement_pieces room) (path_statement_at room) path_sound (λ path able. path_statement_goes room path)))))

-- ---- what stands inside a level

-- Declarations, as many as there are.
abbrev pub listed_declarations : ℕ → List DeclarationTree → List Piece
listed_declarations room ds = declarations_pieces room (declarations_from ds)

-- Statements, one or more.
abbrev pub listed_statements : ℕ → List StatementTree → List Piece
listed_statements room ss = guarded (has_statements (statements_from ss)) (statements_pieces room (statements_from ss))

-- What stands inside a level is written so.
pub record InnerSound (room : ℕ) (inner : Inner) : Type 0 where
  pub declarations : Sound (listed_declarations (room - 1)) inner.declarations
  pub statements : Sound (listed_statements (room - 1)) inner.statements

-- ---- loops

abbrev placed_scheme_pieces : ℕ → Spot × SchemeTree → List Piece
placed_scheme_pieces room x = scheme_pieces room x.0 x.1

for_parts : (first name from to : List Piece) (within dots last : Piece) → first ++ name ++ within ∷ from ++ dots ∷ to ++ last ∷ [] ≡ first ++ (name ++ within ∷ (from ++ dots ∷ (to ++ last ∷ [])))
for_parts first name from to within dots last = simp append_assoc

scheme_sound : (room : ℕ) → Sound (placed_scheme_pieces room) (scheme_at room)
unfolding scheme_at
scheme_sound room =
    choose_sound (placed_scheme_pieces room) (at (reserved word.While)) _ _ (λ t ts us. refl)
    (mapped_sound (placed_scheme_pieces room) while_from
    (both_sound (opening_sound room (reserved word.While) refl) (both_sound (expression_sound (room - 1)) (after_sound (reserved word.Loop) refl nothing_sound))) (λ x able. refl))
    (choose_sound (placed_scheme_pieces room) (at (reserved word.For)) _ _ (λ t ts us. refl)
    (mapped_sound (placed_scheme_pieces room) for_from
    (both_sound (opening_sound room (reserved word.For) refl) (both_sound identifier_sound (after_sound (reserved word.«In») refl
    (both_sound (expression_sound (room - 1)) (after_sound (delimiter mark.DoubleDot) refl (both_sound (expression_sound (room - 1)) (after_sound (reserved word.Loop) refl nothing_sound)))))))
    (λ x able. for_parts (opening_at room (reserved word.For) x.0 ∷ []) (placed (identifier x.1.0.text) x.1.0.spot ∷ []) (expression_pieces (room - 1) x.1.1.0) (expression_pieces (room - 1) x.1.1.1.0) (anywhere (reserved word.«In»)) (anywhere (delimiter mark.DoubleDot)) (anywhere (reserved word.Loop))))
    (mapped_sound (placed_scheme_pieces room) endless_from (opening_sound room (reserved word.Loop) refl) (λ x able. refl)))

abbrev end_loop_pieces : Spot × Unit {0} → List Piece
end_loop_pieces x = placed (reserved word.End) x.0 ∷ anywhere (reserved word.Loop) ∷ ending_pieces

end_loop_sound : Sound end_loop_pieces end_loop_at
unfolding end_loop_at
end_loop_sound = both_sound (placed_sound (reserved word.End) refl) (after_sound (reserved word.Loop) refl end_sound)

loop_sound : {statements : Phrase (List StatementTree)} (room : ℕ) → Sound (listed_statements (room - 1)) statements → Sound (statement_pieces room) (loop_in room statements)
unfolding loop_in
loop_sound room sound = mapped_sound (statement_pieces room) loop_from (both_sound (scheme_sound room) (both_sound sound end_loop_sound))
    (λ x able. append_assoc (placed_scheme_pieces room x.0) (listed_statements (room - 1) x.1.0) (end_loop_pieces x.1.1))

-- ---- conditions

abbrev branch_pieces : ℕ → BranchTree → List Piece
branch_pieces room b = expression_pieces room b.condition ++ anywhere (reserved word.Then) ∷ guarded (has_statements b.statements) (statements_pieces room b.statements)

abbrev next_branch_pieces : ℕ → BranchTree → List Piece
next_branch_pieces room b = anywhere (reserved word.Elsif) ∷ branch_pieces room b

branch_sound : {statements : Phrase (List StatementTree)} (room : ℕ) → Sound (listed_statements (room - 1)) statements → Sound (branch_pieces (room - 1)) (branch_in room statements)
unfolding branch_in
branch_sound room sound = mapped_sound (branch_pieces (room - 1)) branch_from (both_sound (expression_sound (room - 1)) (after_sound (reserved word.Then) refl sound)) (λ x able. refl)

next_branch_sound : {statements : Phrase (List StatementTree)} (room : ℕ) → Sound (listed_statements (room - 1)) statements → Sound (next_branch_pieces (room - 1)) (next_branch_in room statements)
unfolding next_branch_in
next_branch_sound room sound = after_sound (reserved word.Elsif) refl (branch_sound room sound)

branch_parts : (condition statements more : List Piece) (then : Piece) → condition ++ then ∷ statements ++ more ≡ (condition ++ then ∷ statements) ++ more
branch_parts condition statements more then = simp append_assoc

next_branch_parts : (condition statements more : List Piece) (first then : Piece) → first ∷ condition ++ then ∷ statements ++ more ≡ (first ∷ (condition ++ then ∷ statements)) ++ more
next_branch_parts condition statements more first then = simp append_assoc

more_branches_are : (room : ℕ) (bs : List BranchTree) → more_branches_pieces room (branches_from bs) ≡ flat_map (next_branch_pieces room) bs
more_branches_are room [] = refl
more_branches_are room (b ∷ bs) =
    next_branch_parts (expression_pieces room b.condition) (guarded (has_statements b.statements) (statements_pieces room b.statements)) (more_branches_pieces room (branches_from bs)) (anywhere (reserved word.Elsif)) (anywhere (reserved word.Then)) ∙
    (ap (λ (ps : List Piece). next_branch_pieces room b ++ ps) (more_branches_are room bs) ∙ sym (flat_map-cons (next_branch_pieces room) b bs))

all_branches_are : (room : ℕ) (b : BranchTree) (bs : List BranchTree) → branches_pieces room (branches_from (b ∷ bs)) ≡ branch_pieces room b ++ flat_map (next_branch_pieces room) bs
all_branches_are room b bs =
    branch_parts (expression_pieces room b.condition) (guarded (has_statements b.statements) (statements_pieces room b.statements)) (more_branches_pieces room (branches_from bs)) (anywhere (reserved word.Then)) ∙
    ap (λ (ps : List Piece). branch_pieces room b ++ ps) (more_branches_are room bs)

abbrev listed_branches : ℕ → List BranchTree → List Piece
listed_branches room bs = branches_pieces room (branches_from bs)

branches_sound : {statements : Phrase (List StatementTree)} (room : ℕ) → Sound (listed_statements (room - 1)) statements → Sound (listed_branches (room - 1)) (branches_in room statements)
unfolding branches_in
branches_sound room sound = mapped_sound (listed_branches (room - 1)) cons_from
    (both_sound (branch_sound room sound) (all_sound (at (reserved word.Elsif)) (λ t ts us. refl) (λ x able. refl) (next_branch_sound room sound)))
    (λ x able. all_branches_are (room - 1) x.0 x.1)

abbrev listed_otherwise : ℕ → List StatementTree → List Piece
listed_otherwise room ss = otherwise_pieces (statements_from ss) (statements_pieces room (statements_from ss))

else_is : (room : ℕ) (ss : List StatementTree) → Able (anywhere (reserved word.Else) ∷ listed_statements room ss) → listed_otherwise room ss ≡ anywhere (reserved word.Else) ∷ listed_statements room ss
else_is room [] able = absurd able.1.0
else_is room (s ∷ ss) able = refl

otherwise_sound : {statements : Phrase (List StatementTree)} (room : ℕ) → Sound (listed_statements room) statements → Sound (listed_otherwise room) (otherwise_in statements)
unfolding otherwise_in
otherwise_sound room sound = choose_sound (listed_otherwise room) (at (reserved word.Else)) _ _ (λ t ts us. refl)
    (sound_as (listed_otherwise room) (after_sound (reserved word.Else) refl sound) (else_is room))
    (mapped_sound (listed_otherwise room) (λ _. []) nothing_sound (λ x able. refl))

abbrev end_if_pieces : Spot × Unit {0} → List Piece
end_if_pieces x = placed (reserved word.End) x.0 ∷ anywhere (reserved word.If) ∷ ending_pieces

end_if_sound : Sound end_if_pieces end_if_at
unfolding end_if_at
end_if_sound = both_sound (placed_sound (reserved word.End) refl) (after_sound (reserved word.If) refl end_sound)

four_parts : (first second third fourth : List Piece) → first ++ second ++ third ++ fourth ≡ first ++ (second ++ (third ++ fourth))
four_parts first second third fourth = simp append_assoc

if_sound : {statements : Phrase (List StatementTree)} (room : ℕ) → Sound (listed_statements (room - 1)) statements → Sound (statement_pieces room) (if_in room statements)
unfolding if_in
if_sound room sound = mapped_sound (statement_pieces room) if_from
    (both_sound (opening_sound room (reserved word.If) refl) (both_sound (branches_sound room sound) (both_sound (otherwise_sound (room - 1) sound) end_if_sound)))
    (λ x able. four_parts (opening_at room (reserved word.If) x.0 ∷ []) (listed_branches (room - 1) x.1.0) (listed_otherwise (room - 1) x.1.1.0) (end_if_pieces x.1.1.1))

-- ---- handlers and blocks

abbrev handler_pieces : ℕ → HandlerTree → List Piece
handler_pieces room h = placed (reserved word.When) h.spot ∷ (choices_pieces h.choices ++ anywhere (delimiter mark.Arrow) ∷ guarded (has_statements h.statements) (statements_pieces room h.statements))

handler_sound : {statements : Phrase (List StatementTree)} (room : ℕ) → Sound (listed_statements room) statements → Sound (handler_pieces room) (handler_in statements)
unfolding handler_in
handler_sound room sound = mapped_sound (handler_pieces room) handler_from
    (both_sound (placed_sound (reserved word.When) refl) (both_sound choices_sound (after_sound (delimiter mark.Arrow) refl sound))) (λ x able. refl)

handlers_are : (room : ℕ) (hs : List HandlerTree) → handlers_pieces room (handlers_from hs) ≡ flat_map (handler_pieces room) hs
handlers_are room [] = refl
handlers_are room (h ∷ hs) =
    next_branch_parts (choices_pieces h.choices) (guarded (has_statements h.statements) (statements_pieces room h.statements)) (handlers_pieces room (handlers_from hs)) (placed (reserved word.When) h.spot) (anywhere (delimiter mark.Arrow)) ∙
    (ap (λ (ps : List Piece). handler_pieces room h ++ ps) (handlers_are room hs) ∙ sym (flat_map-cons (handler_pieces room) h hs))

abbrev listed_handlers : ℕ → List HandlerTree → List Piece
listed_handlers room hs = exception_pieces (handlers_from hs) (handlers_pieces room (handlers_from hs))

exception_is : (room : ℕ) (hs : List HandlerTree) → Able (anywhere (reserved word.Exception) ∷ some_pieces (handler_pieces room) hs) → listed_handlers room hs ≡ anywhere (reserved word.Exception) ∷ some_pieces (handler_pieces room) hs
exception_is room [] able = absurd able.1.0
exception_is room (h ∷ hs) able = ap (λ (ps : List Piece). anywhere (reserved word.Exception) ∷ ps) (handlers_are room (h ∷ hs))

some_handlers_sound : {statements : Phrase (List StatementTree)} (room : ℕ) → Sound (listed_statements room) statements → Sound (some_pieces (handler_pieces room)) (some_handlers_in statements)
unfolding some_handlers_in
some_handlers_sound room sound = some_sound (at (reserved word.When)) (λ t ts us. refl) (λ x able. refl) (handler_sound room sound)

handlers_sound : {statements : Phrase (List StatementTree)} (room : ℕ) → Sound (listed_statements room) statements → Sound (listed_handlers room) (handlers_in statements)
unfolding handlers_in
handlers_sound room sound = choose_sound (listed_handlers room) (at (reserved word.Exception)) _ _ (λ t ts us. refl)
    (sound_as (listed_handlers room) (after_sound (reserved word.Exception) refl (some_handlers_sound room sound)) (exception_is room))
    (mapped_sound (listed_handlers room) (λ _. []) nothing_sound (λ x able. refl))

sequence_goes : {statements : Phrase (List StatementTree)} (room : ℕ) (front : List Piece) (pieces : SequenceTree → List Piece) (start : Spot) → ((x : List StatementTree × (List HandlerTree × Spot)) → pieces (sequence_from start x) ≡ front ++ sequence_pieces room (sequence_from start x)) → Sound (listed_statements room) statements → Goes front pieces (sequence_in statements start)
unfolding sequence_in
sequence_goes room front pieces start e sound = mapped_goes front pieces (sequence_from start)
    (both_sound sound (both_sound (handlers_sound room sound) (placed_sound (reserved word.End) refl)))
    (λ x able. e x ∙ ap (λ (ps : List Piece). front ++ ps) (append_assoc (listed_statements room x.0) (listed_handlers room x.1.0) (placed (reserved word.End) x.1.1 ∷ [])))

-- `begin .. end`
abbrev pub begin_pieces : ℕ → SequenceTree → List Piece
begin_pieces room body = placed (reserved word.Begin) (begin_of body) ∷ sequence_pieces room body

pub begin_sound : {statements : Phrase (List StatementTree)} (room : ℕ) → Sound (listed_statements room) statements → Sound (begin_pieces room) (begin_in statements)
unfolding begin_in
begin_sound room sound = continued_sound (begin_pieces room) _ (placed_sound (reserved word.Begin) refl)
    (λ start able. sequence_goes room (placed (reserved word.Begin) start ∷ []) (begin_pieces room) start (λ x. refl) sound)

abbrev opened_begin_pieces : ℕ → SequenceTree → List Piece
opened_begin_pieces room body = opening_at room (reserved word.Begin) (begin_of body) ∷ sequence_pieces (room - 1) body

block_sound : {statements : Phrase (List StatementTree)} (room : ℕ) → Sound (listed_statements (room - 1)) statements → Sound (statement_pieces room) (block_in room statements)
unfolding block_in
block_sound room sound = mapped_sound (statement_pieces room) block_from
    (both_sound (continued_sound (opened_begin_pieces room) _ (opening_sound room (reserved word.Begin) refl)
    (λ start able. sequence_goes (room - 1) (opening_at room (reserved word.Begin) start ∷ []) (opened_begin_pieces room) start (λ x. refl) sound)) end_sound)
    (λ x able. refl)

declare_parts : (first declarations body last : List Piece) (start : Piece) → first ++ declarations ++ start ∷ body ++ last ≡ first ++ (declarations ++ ((start ∷ body) ++ last))
declare_parts first declarations body last start = simp append_assoc

declare_block_sound : {inner : Inner} (room : ℕ) → InnerSound room inner → Sound (statement_pieces room) (declare_block_in room inner)
unfolding declare_block_in
declare_block_sound room sound = mapped_sound (statement_pieces room) declare_block_from
    (both_sound (opening_sound room (reserved word.Declare) refl) (both_sound sound.declarations (both_sound (begin_sound (room - 1) sound.statements) end_sound)))
    (λ x able. declare_parts (opening_at room (reserved word.Declare) x.0 ∷ []) (listed_declarations (room - 1) x.1.0) (sequence_pieces (room - 1) x.1.1.0) ending_pieces (placed (reserved word.Begin) (begin_of x.1.1.0)))

-- ---- statements

pub statement_sound : {inner : Inner} (room : ℕ) → InnerSound room inner → Sound (statement_pieces room) (statement_in room inner)
unfolding statement_in
statement_sound room sound =
    choose_sound (statement_pieces room) (at (reserved word.If)) _ _ (λ t ts us. refl) (if_sound room sound.statements)
    (choose_sound (statement_pieces room) at_loop _ _ (λ t ts us. refl) (loop_sound room sound.statements)
    (choose_sound (statement_pieces room) (at (reserved word.Begin)) _ _ (λ t ts us. refl) (block_sound room sound.statements)
    (choose_sound (statement_pieces room) (at (reserved word.Declare)) _ _ (λ t ts us. refl) (declare_block_sound room sound)
    (simple_statement_sound room))))

statement_filled : (room : ℕ) (s : StatementTree) → is_filled (statement_pieces room s) ≡ true
statement_filled room (null_statement _) = refl
statement_filled room (assignment _ _) = refl
statement_filled room (call _ _) = refl
statement_filled room (if_statement _ _ _ _) = refl
statement_filled room (loop_statement _ endless _ _) = refl
statement_filled room (loop_statement _ (while_scheme _) _ _) = refl
statement_filled room (loop_statement _ (for_scheme _ _ _) _ _) = refl
statement_filled room (exit_statement _ _) = refl
statement_filled room (return_statement _) = refl
statement_filled room (raise_statement _ _) = refl
statement_filled room (block _) = refl
statement_filled room (declare_block _ _ _) = refl

statements_are : (room : ℕ) (ss : List StatementTree) → statements_pieces room (statements_from ss) ≡ flat_map (statement_pieces room) ss
statements_are room [] = refl
statements_are room (s ∷ ss) = ap (λ (ps : List Piece). statement_pieces room s ++ ps) (statements_are room ss) ∙ sym (flat_map-cons (statement_pieces room) s ss)

some_statements_are : (room : ℕ) (ss : List StatementTree) → Able (some_pieces (statement_pieces room) ss) → listed_statements room ss ≡ some_pieces (statement_pieces room) ss
some_statements_are room [] able = absurd able.0
some_statements_are room (s ∷ ss) able = statements_are room (s ∷ ss)

pub statements_in_sound : {inner : Inner} (room : ℕ) → InnerSound room inner → Sound (listed_statements room) (statements_in room inner)
unfolding statements_in
statements_in_sound room sound = sound_as (listed_statements room)
    (unended_sound ends_statements goes_on (λ t ts us. refl) (λ t ts us. refl) (λ ts. refl) (λ x able. statement_filled room x) (statement_sound room sound))
    (some_statements_are room)
