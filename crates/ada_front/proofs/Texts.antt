-- The marks of a tree stand at tokens that it is written with, in their order.

use Rattle.std.proofs.Common.{◌≡◌, ℕ, zero, suc, ◌-◌, Bool, true, false, List, [], ◌∷◌, ◌++◌, Option, Some, None, refl, sym, subst, append_assoc}
use Rattle.std.specs.Prelude.{if◌then◌else◌}
use Rattle.std.specs.List.{flat_map}
use Rattle.ada_text.specs.declared.spot.Spot.{Spot}
use Rattle.ada_text.specs.declared.delimiter.Delimiter.TheVariants.{Arrow}
use Rattle.ada_text.specs.declared.word.Word.TheVariants as word
use Rattle.ada_text.specs.Token.{Kind, reserved, delimiter, Lexeme}
use Rattle.ada_tree.specs.Piece.{Piece, anywhere, placed, never, IsPiece, Written, opening_at, guarded}
use Rattle.ada_tree.specs.Names.{ident_pieces}
use Rattle.ada_tree.specs.Expressions.{ExpressionTree, number_expression, null_expression, path_expression, aggregate_expression, enclosed_expression, unary_expression, binary_expression, binary_pieces, expression_pieces}
use Rattle.ada_tree.specs.Records.{null_record}
use Rattle.ada_tree.specs.Declarations.{HeadTree, ChoiceTree, body_head_pieces, choices_pieces, clause_pieces, end_name_pieces, specification_pieces}
use Rattle.ada_tree.specs.Statements.{SchemeTree, endless, while_scheme, for_scheme, DeclarationTree, exception_declaration, constant_declaration, pool_declaration, object_declaration, borrower_declaration, incomplete_type, access_type, record_type, derived_type, attribute_clause, specification, body_declaration, instance, DeclarationsTree, no_declarations, a_declaration, StatementTree, null_statement, assignment, call, if_statement, loop_statement, exit_statement, return_statement, raise_statement, block, declare_block, StatementsTree, no_statements, a_statement, BranchesTree, no_branches, a_branch, HandlersTree, no_handlers, a_handler, SequenceTree, a_sequence, begin_of, has_statements, UnitTree, branches_pieces, declaration_pieces, declarations_pieces, deepest, ending_pieces, exception_pieces, handlers_pieces, more_branches_pieces, otherwise_pieces, scheme_pieces, sequence_pieces, statement_pieces, statements_pieces, unit_pieces}
use Rattle.ada_front.specs.Front.{has_branches, statements_start}
use Rattle.ada_front.specs.Marks.{Mark, a_place, declares_type, declares, does, mark_spot, branches_marks, declaration_marks, declarations_marks, handlers_marks, sequence_marks, statement_marks, statements_marks, unit_marks}
use Rattle.ada_front.specs.Spots.{declaration_start, expression_start, first_or, statement_start}

-- A token stands at a place.
abbrev pub StandsAt : Lexeme → Spot → Type 0
StandsAt t spot = (t.line ≡ spot.line) × (t.column ≡ spot.column)

-- The marks stand at these tokens up to the rest, in their order, several perhaps at one.
pub data Marked (rest : List Lexeme) : List Mark → List Lexeme → Type 0 where
  none : Marked rest [] rest
  skips : (t : Lexeme) (ms : List Mark) (ts : List Lexeme) → Marked rest ms ts → Marked rest ms (t ∷ ts)
  stands : (t : Lexeme) (m : Mark) (ms : List Mark) (ts : List Lexeme)
      → StandsAt t (mark_spot m) → Marked rest ms (t ∷ ts) → Marked rest (m ∷ ms) (t ∷ ts)

-- What is written with these pieces has these marks.
record Marks (ps : List Piece) (ms : List Mark) : Type 0 where
  pub marked : (ts rest : List Lexeme) → Written ps ts rest → Marked rest ms ts

-- The first token stands there.
abbrev FirstAt : Spot → List Lexeme → Type 0
FirstAt spot [] = ⊥
FirstAt spot (t ∷ ts) = StandsAt t spot

-- What is written with these pieces begins there.
record Begins (ps : List Piece) (spot : Spot) : Type 0 where
  pub first : (ts rest : List Lexeme) → Written ps ts rest → FirstAt spot ts

-- What is written with some pieces and then others is written with each.
record Halves (ps qs : List Piece) (ts rest : List Lexeme) : Type 0 where
  pub mid : List Lexeme
  pub front : Written ps ts mid
  pub back : Written qs mid rest

halves : (ps qs : List Piece) (ts rest : List Lexeme) → Written (ps ++ qs) ts rest → Halves ps qs ts rest
halves [] qs ts rest w = record { mid = ts; front = refl; back = w }
halves (p ∷ ps) qs [] rest w = absurd w
halves (p ∷ ps) qs (t ∷ ts) rest w =
    let h = halves ps qs ts rest w.1 in
    record { mid = h.mid; front = (w.0, h.front); back = h.back }

-- Marks of two halves.
joined : (rest mid ts : List Lexeme) (ms ns : List Mark) → Marked mid ms ts → Marked rest ns mid → Marked rest (ms ++ ns) ts
joined rest mid ts ms ns none later = later
joined rest mid ts ms ns (skips t ls us earlier) later = skips t (ls ++ ns) us (joined rest mid us ls ns earlier later)
joined rest mid ts ms ns (stands t m ls us at earlier) later = stands t m (ls ++ ns) us at (joined rest mid (t ∷ us) ls ns earlier later)

kept_on : (rest mid ts : List Lexeme) (ms : List Mark) → Marked mid ms ts → Marked rest [] mid → Marked rest ms ts
kept_on rest mid ts ms none later = later
kept_on rest mid ts ms (skips t ls us earlier) later = skips t ls us (kept_on rest mid us ls earlier later)
kept_on rest mid ts ms (stands t m ls us at earlier) later = stands t m ls us at (kept_on rest mid (t ∷ us) ls earlier later)

-- Nothing is marked.
none_marked : (ps : List Piece) (ts rest : List Lexeme) → Written ps ts rest → Marked rest [] ts
none_marked [] ts rest w = rw w none
none_marked (p ∷ ps) [] rest w = absurd w
none_marked (p ∷ ps) (t ∷ ts) rest w = skips t [] ts (none_marked ps ts rest w.1)

unmarked : (ps : List Piece) → Marks ps []
unmarked ps = record { marked = none_marked ps }

-- One behind another.
both : (ps qs : List Piece) (ms ns : List Mark) → Marks ps ms → Marks qs ns → Marks (ps ++ qs) (ms ++ ns)
both ps qs ms ns first second = record {
  marked = λ ts rest w.
      let h = halves ps qs ts rest w in
      joined rest h.mid ts ms ns (first.marked ts h.mid h.front) (second.marked h.mid rest h.back);
}

-- Nothing is marked behind.
front_alone : (ps qs : List Piece) (ms : List Mark) → Marks ps ms → Marks (ps ++ qs) ms
front_alone ps qs ms first = record {
  marked = λ ts rest w.
      let h = halves ps qs ts rest w in
      kept_on rest h.mid ts ms (first.marked ts h.mid h.front) (none_marked qs h.mid rest h.back);
}

-- Nothing is marked in front.
back_alone : (ps qs : List Piece) (ms : List Mark) → Marks qs ms → Marks (ps ++ qs) ms
back_alone ps qs ms second = both ps qs [] ms (unmarked ps) second

-- Past one token.
past : (p : Piece) (ps : List Piece) (ms : List Mark) → Marks ps ms → Marks (p ∷ ps) ms
past p ps ms later = record { marked = go }
  where
    go : (ts rest : List Lexeme) → Written (p ∷ ps) ts rest → Marked rest ms ts
    go [] rest w = absurd w
    go (t ∷ ts) rest w = skips t ms ts (later.marked ts rest w.1)

-- The first token is marked.
begun : (ps : List Piece) (m : Mark) (ms : List Mark) → Begins ps (mark_spot m) → Marks ps ms → Marks ps (m ∷ ms)
begun ps m ms begins later = record { marked = λ ts rest w. go rest ts (begins.first ts rest w) (later.marked ts rest w) }
  where
    go : (rest us : List Lexeme) → FirstAt (mark_spot m) us → Marked rest ms us → Marked rest (m ∷ ms) us
    go rest [] at marked = absurd at
    go rest (t ∷ us) at marked = stands t m ms us at marked

-- Where phrases begin.

placed_begins : (k : Kind) (spot : Spot) (ps : List Piece) → Begins (placed k spot ∷ ps) spot
placed_begins k spot ps = record { first = go }
  where
    go : (ts rest : List Lexeme) → Written (placed k spot ∷ ps) ts rest → FirstAt spot ts
    go [] rest w = absurd w
    go (t ∷ ts) rest w = (w.0.1, w.0.2)

opening_begins : (room : ℕ) (k : Kind) (spot : Spot) (ps : List Piece) → Begins (opening_at room k spot ∷ ps) spot
opening_begins room k spot ps = record { first = go room }
  where
    go : (room : ℕ) (ts rest : List Lexeme) → Written (opening_at room k spot ∷ ps) ts rest → FirstAt spot ts
    go room [] rest w = absurd w
    go zero (t ∷ ts) rest w = absurd w.0
    go (suc room) (t ∷ ts) rest w = (w.0.1, w.0.2)

both_begin : (ps qs : List Piece) (spot : Spot) → Begins ps spot → Begins (ps ++ qs) spot
both_begin ps qs spot begins = record {
  first = λ ts rest w.
      let h = halves ps qs ts rest w in
      begins.first ts h.mid h.front;
}

guarded_begins : (allowed : Bool) (ps : List Piece) (spot : Spot) → Begins ps spot → Begins (guarded allowed ps) spot
guarded_begins allowed ps spot begins = record { first = go allowed }
  where
    go : (allowed : Bool) (ts rest : List Lexeme) → Written (guarded allowed ps) ts rest → FirstAt spot ts
    go true ts rest w = begins.first ts rest w
    go false [] rest w = absurd w
    go false (t ∷ ts) rest w = absurd w.0

expression_begins : (room : ℕ) (e : ExpressionTree) → Begins (expression_pieces room e) (expression_start e)
unfolding expression_start
expression_begins room (number_expression spot n) = placed_begins _ spot _
expression_begins room (null_expression spot) = placed_begins _ spot _
expression_begins room (path_expression path) = placed_begins _ path.root.spot _
expression_begins room (aggregate_expression type_name items) = placed_begins _ type_name.spot _
expression_begins room (enclosed_expression spot inner) = opening_begins room _ spot _
expression_begins room (unary_expression operator spot operand) = guarded_begins _ _ spot (placed_begins _ spot _)
expression_begins room (binary_expression operator left right) =
    guarded_begins _ _ (expression_start left)
    (both_begin _ (expression_pieces room right) (expression_start left)
    (both_begin (expression_pieces room left) (binary_pieces operator) (expression_start left) (expression_begins room left)))

specification_begins : (room : ℕ) (h : HeadTree) (o : Option Spot) → h.overriding ≡ o → Begins (specification_pieces room h) (first_or h.overriding h.spot)
specification_begins room h None is = rw is (placed_begins _ h.spot _)
specification_begins room h (Some spot) is = rw is (placed_begins _ spot _)

head_begins : (room : ℕ) (h : HeadTree) (o : Option Spot) → h.overriding ≡ o → Begins (body_head_pieces room h) (first_or h.overriding h.spot)
head_begins room h None is = rw is (opening_begins room _ h.spot _)
head_begins room h (Some spot) is = rw is (opening_begins room _ spot _)

declaration_begins : (room : ℕ) (d : DeclarationTree) → Begins (declaration_pieces room d) (declaration_start d)
unfolding declaration_start
declaration_begins room (exception_declaration name) = placed_begins _ name.spot _
declaration_begins room (constant_declaration name value) = placed_begins _ name.spot _
declaration_begins room (pool_declaration name type_name label size) = placed_begins _ name.spot _
declaration_begins room (object_declaration name type_name initial) = placed_begins _ name.spot _
declaration_begins room (borrower_declaration name designated initial) = placed_begins _ name.spot _
declaration_begins room (incomplete_type spot name) = placed_begins _ spot _
declaration_begins room (access_type spot name designated aspect) = placed_begins _ spot _
declaration_begins room (record_type spot name definition) = placed_begins _ spot _
declaration_begins room (derived_type spot name parent definition) = placed_begins _ spot _
declaration_begins room (attribute_clause spot name attribute value) = placed_begins _ spot _
declaration_begins room (specification head) =
    both_begin (specification_pieces room head) ending_pieces (first_or head.overriding head.spot) (specification_begins room head head.overriding refl)
declaration_begins room (body_declaration head ds body end_name) =
    let start = first_or head.overriding head.spot in
    both_begin _ ending_pieces start (both_begin _ (end_name_pieces end_name) start
    (both_begin _ (placed (reserved word.Begin) (begin_of body) ∷ sequence_pieces (room - 1) body) start
    (both_begin (body_head_pieces room head) (anywhere (reserved word.Is) ∷ declarations_pieces (room - 1) ds) start
    (head_begins room head head.overriding refl))))
declaration_begins room (instance spot name generic designated access) = placed_begins _ spot _

scheme_begins : (room : ℕ) (spot : Spot) (scheme : SchemeTree) → Begins (scheme_pieces room spot scheme) spot
scheme_begins room spot endless = opening_begins room _ spot _
scheme_begins room spot (while_scheme e) = opening_begins room _ spot _
scheme_begins room spot (for_scheme i first last) = opening_begins room _ spot _

loop_begins : (room : ℕ) (spot : Spot) (scheme : SchemeTree) (ss : StatementsTree) (last : Spot)
    → Begins (statement_pieces room (loop_statement spot scheme ss last)) spot
loop_begins room spot scheme ss last =
    both_begin _ (placed (reserved word.End) last ∷ anywhere (reserved word.Loop) ∷ ending_pieces) spot
    (both_begin (scheme_pieces room spot scheme) (guarded (has_statements ss) (statements_pieces (room - 1) ss)) spot (scheme_begins room spot scheme))

statement_begins : (room : ℕ) (s : StatementTree) → Begins (statement_pieces room s) (statement_start s)
unfolding statement_start
statement_begins room (null_statement spot) = placed_begins _ spot _
statement_begins room (assignment target value) = placed_begins _ target.root.spot _
statement_begins room (call procedure arguments) = placed_begins _ procedure.root.spot _
statement_begins room (if_statement spot bs others last) = opening_begins room _ spot _
statement_begins room (loop_statement spot scheme ss last) = loop_begins room spot scheme ss last
statement_begins room (exit_statement spot condition) = placed_begins _ spot _
statement_begins room (return_statement spot) = placed_begins _ spot _
statement_begins room (raise_statement spot name) = placed_begins _ spot _
statement_begins room (block body) = opening_begins room _ (begin_of body) _
statement_begins room (declare_block spot ds body) = opening_begins room _ spot _

-- Marks of phrases.

guarded_marks : (allowed : Bool) (ps : List Piece) (ms : List Mark) → Marks ps ms → Marks (guarded allowed ps) ms
guarded_marks allowed ps ms inner = record { marked = go allowed }
  where
    go : (allowed : Bool) (ts rest : List Lexeme) → Written (guarded allowed ps) ts rest → Marked rest ms ts
    go true ts rest w = inner.marked ts rest w
    go false [] rest w = absurd w
    go false (t ∷ ts) rest w = absurd w.0

-- At a token whose place the tree keeps.
at : (k : Kind) (m : Mark) (ps : List Piece) (ms : List Mark) → Marks ps ms → Marks (placed k (mark_spot m) ∷ ps) (m ∷ ms)
at k m ps ms later = begun _ m ms (placed_begins k (mark_spot m) ps) (past _ ps ms later)

opens : (room : ℕ) (k : Kind) (m : Mark) (ps : List Piece) (ms : List Mark) → Marks ps ms → Marks (opening_at room k (mark_spot m) ∷ ps) (m ∷ ms)
opens room k m ps ms later = begun _ m ms (opening_begins room k (mark_spot m) ps) (past _ ps ms later)

-- One mark, where a phrase begins.
one_marked : (ps : List Piece) (m : Mark) → Begins ps (mark_spot m) → Marks ps (m ∷ [])
one_marked ps m first = begun ps m [] first (unmarked ps)

-- What stands behind `else`, up to the end of an `if`.
otherwise_marked : (room : ℕ) (others : StatementsTree) (last : Spot) → Marks (statements_pieces room others) (statements_marks others)
    → Marks (otherwise_pieces others (statements_pieces room others) ++ placed (reserved word.End) last ∷ anywhere (reserved word.If) ∷ ending_pieces)
    (a_place (statements_start others last) ∷ statements_marks others)
otherwise_marked room no_statements last inner = one_marked _ (a_place last) (placed_begins _ last _)
otherwise_marked room (a_statement s ss) last inner =
    past _ _ _ (begun _ (a_place (statement_start s)) _
    (both_begin (statements_pieces room (a_statement s ss)) _ (statement_start s)
    (both_begin (statement_pieces room s) (statements_pieces room ss) (statement_start s) (statement_begins room s)))
    (front_alone (statements_pieces room (a_statement s ss)) _ _ inner))

-- An `if`, of its parts.
if_marked : (room : ℕ) (spot : Spot) (bs : BranchesTree) (others : StatementsTree) (last : Spot)
    → Marks (branches_pieces (room - 1) bs) (branches_marks bs) → Marks (statements_pieces (room - 1) others) (statements_marks others)
    → Marks (statement_pieces room (if_statement spot bs others last)) (statement_marks (if_statement spot bs others last))
if_marked room spot no_branches others last branches otherwise = one_marked _ (a_place spot) (opening_begins room _ spot _)
if_marked room spot (a_branch condition ss bs) others last branches otherwise =
    let first = branches_pieces (room - 1) (a_branch condition ss bs) in
    let second = otherwise_pieces others (statements_pieces (room - 1) others) in
    let behind = placed (reserved word.End) last ∷ anywhere (reserved word.If) ∷ ending_pieces in
    let marks = a_place (statements_start others last) ∷ statements_marks others in
    opens room _ (a_place spot) ((first ++ second) ++ behind) (branches_marks (a_branch condition ss bs) ++ marks)
    (subst (λ (ps : List Piece). Marks ps (branches_marks (a_branch condition ss bs) ++ marks)) (sym (append_assoc first second behind))
    (both first (second ++ behind) (branches_marks (a_branch condition ss bs)) marks branches (otherwise_marked (room - 1) others last otherwise)))

-- The handlers, with the word `exception`.
exception_marked : (room : ℕ) (hs : HandlersTree) → Marks (handlers_pieces room hs) (handlers_marks hs)
    → Marks (exception_pieces hs (handlers_pieces room hs)) (handlers_marks hs)
exception_marked room no_handlers inner = unmarked []
exception_marked room (a_handler spot choices ss hs) inner = past _ _ _ inner

-- A sequence, of its parts.
sequence_of : (room : ℕ) (start : Spot) (ss : StatementsTree) (hs : HandlersTree) (last : Spot)
    → Marks (statements_pieces room ss) (statements_marks ss) → Marks (handlers_pieces room hs) (handlers_marks hs)
    → Marks (sequence_pieces room (a_sequence start ss hs last)) (sequence_marks (a_sequence start ss hs last))
sequence_of room start no_statements hs last statements handlers = unmarked _
sequence_of room start (a_statement s ss) hs last statements handlers =
    let first = statements_pieces room (a_statement s ss) in
    let second = exception_pieces hs (handlers_pieces room hs) in
    let behind = placed (reserved word.End) last ∷ [] in
    let marks = handlers_marks hs ++ a_place last ∷ [] in
    subst (λ (ps : List Piece). Marks ps (statements_marks (a_statement s ss) ++ marks)) (sym (append_assoc first second behind))
    (both first (second ++ behind) (statements_marks (a_statement s ss)) marks statements
    (both second behind (handlers_marks hs) (a_place last ∷ []) (exception_marked room hs handlers) (one_marked behind (a_place last) (placed_begins _ last []))))

-- Declarations and a sequence behind them.
part_marked : (room : ℕ) (ds : DeclarationsTree) (body : SequenceTree)
    → Marks (declarations_pieces room ds) (declarations_marks ds) → Marks (sequence_pieces room body) (sequence_marks body)
    → Marks (declarations_pieces room ds ++ placed (reserved word.Begin) (begin_of body) ∷ sequence_pieces room body)
    (declarations_marks ds ++ a_place (begin_of body) ∷ sequence_marks body)
part_marked room ds body declarations sequence =
    both (declarations_pieces room ds) (placed (reserved word.Begin) (begin_of body) ∷ sequence_pieces room body) (declarations_marks ds)
    (a_place (begin_of body) ∷ sequence_marks body) declarations (at _ (a_place (begin_of body)) _ _ sequence)

-- The same behind a head.
body_marked : (room : ℕ) (head : List Piece) (ds : DeclarationsTree) (body : SequenceTree)
    → Marks (declarations_pieces room ds) (declarations_marks ds) → Marks (sequence_pieces room body) (sequence_marks body)
    → Marks ((head ++ anywhere (reserved word.Is) ∷ declarations_pieces room ds) ++ placed (reserved word.Begin) (begin_of body) ∷ sequence_pieces room body)
    (declarations_marks ds ++ a_place (begin_of body) ∷ sequence_marks body)
body_marked room head ds body declarations sequence =
    both (head ++ anywhere (reserved word.Is) ∷ declarations_pieces room ds) (placed (reserved word.Begin) (begin_of body) ∷ sequence_pieces room body)
    (declarations_marks ds) (a_place (begin_of body) ∷ sequence_marks body)
    (back_alone head (anywhere (reserved word.Is) ∷ declarations_pieces room ds) _ (past _ _ _ declarations))
    (at _ (a_place (begin_of body)) _ _ sequence)

-- A condition and statements behind it, and other branches.
branch_marked : (room : ℕ) (condition : ExpressionTree) (ss : StatementsTree) (bs : BranchesTree)
    → Marks (statements_pieces room ss) (statements_marks ss) → Marks (more_branches_pieces room bs) (branches_marks bs)
    → Marks ((expression_pieces room condition ++ anywhere (reserved word.Then) ∷ guarded (has_statements ss) (statements_pieces room ss)) ++ more_branches_pieces room bs)
    (branches_marks (a_branch condition ss bs))
branch_marked room condition ss bs statements branches =
    let inner = anywhere (reserved word.Then) ∷ guarded (has_statements ss) (statements_pieces room ss) in
    begun _ (a_place (expression_start condition)) _
    (both_begin (expression_pieces room condition ++ inner) (more_branches_pieces room bs) (expression_start condition)
    (both_begin (expression_pieces room condition) inner (expression_start condition) (expression_begins room condition)))
    (both (expression_pieces room condition ++ inner) (more_branches_pieces room bs) (statements_marks ss) (branches_marks bs)
    (back_alone (expression_pieces room condition) inner _ (past _ _ _ (guarded_marks (has_statements ss) _ _ statements))) branches)

mutual
  declaration_marked : (room : ℕ) (d : DeclarationTree) → Marks (declaration_pieces room d) (declaration_marks d)
  declaration_marked room (incomplete_type spot name) = one_marked _ (declares_type spot name) (placed_begins _ spot _)
  declaration_marked room (record_type spot name null_record) = one_marked _ (declares_type spot name) (placed_begins _ spot _)
  declaration_marked room (specification head) =
      one_marked _ (a_place (declaration_start (specification head))) (declaration_begins room (specification head))
  declaration_marked room (body_declaration head ds body end_name) =
      begun _ (a_place (declaration_start (body_declaration head ds body end_name))) _ (declaration_begins room (body_declaration head ds body end_name))
      (front_alone _ ending_pieces _ (front_alone _ (end_name_pieces end_name) _
      (body_marked (room - 1) (body_head_pieces room head) ds body (declarations_marked (room - 1) ds) (sequence_marked (room - 1) body))))
  declaration_marked room other = one_marked _ (declares other) (declaration_begins room other)

  declarations_marked : (room : ℕ) (ds : DeclarationsTree) → Marks (declarations_pieces room ds) (declarations_marks ds)
  declarations_marked room no_declarations = unmarked []
  declarations_marked room (a_declaration d ds) =
      both (declaration_pieces room d) (declarations_pieces room ds) (declaration_marks d) (declarations_marks ds)
      (declaration_marked room d) (declarations_marked room ds)

  statement_marked : (room : ℕ) (s : StatementTree) → Marks (statement_pieces room s) (statement_marks s)
  statement_marked room (if_statement spot bs others last) =
      if_marked room spot bs others last (branches_marked (room - 1) bs) (statements_marked (room - 1) others)
  statement_marked room (loop_statement spot scheme ss last) =
      begun _ (a_place spot) _ (loop_begins room spot scheme ss last)
      (front_alone _ (placed (reserved word.End) last ∷ anywhere (reserved word.Loop) ∷ ending_pieces) _
      (back_alone (scheme_pieces room spot scheme) (guarded (has_statements ss) (statements_pieces (room - 1) ss)) _
      (guarded_marks (has_statements ss) _ _ (statements_marked (room - 1) ss))))
  statement_marked room (block body) =
      opens room _ (a_place (begin_of body)) _ _ (front_alone (sequence_pieces (room - 1) body) ending_pieces _ (sequence_marked (room - 1) body))
  statement_marked room (declare_block spot ds body) =
      opens room _ (a_place spot) _ _
      (front_alone (declarations_pieces (room - 1) ds ++ placed (reserved word.Begin) (begin_of body) ∷ sequence_pieces (room - 1) body) ending_pieces _
      (part_marked (room - 1) ds body (declarations_marked (room - 1) ds) (sequence_marked (room - 1) body)))
  statement_marked room other = one_marked _ (does other) (statement_begins room other)

  statements_marked : (room : ℕ) (ss : StatementsTree) → Marks (statements_pieces room ss) (statements_marks ss)
  statements_marked room no_statements = unmarked []
  statements_marked room (a_statement s ss) =
      both (statement_pieces room s) (statements_pieces room ss) (statement_marks s) (statements_marks ss)
      (statement_marked room s) (statements_marked room ss)

  branches_marked : (room : ℕ) (bs : BranchesTree) → Marks (branches_pieces room bs) (branches_marks bs)
  branches_marked room no_branches = unmarked _
  branches_marked room (a_branch condition ss bs) = branch_marked room condition ss bs (statements_marked room ss) (more_branches_marked room bs)

  more_branches_marked : (room : ℕ) (bs : BranchesTree) → Marks (more_branches_pieces room bs) (branches_marks bs)
  more_branches_marked room no_branches = unmarked []
  more_branches_marked room (a_branch condition ss bs) =
      past (anywhere (reserved word.Elsif)) _ _ (branch_marked room condition ss bs (statements_marked room ss) (more_branches_marked room bs))

  handlers_marked : (room : ℕ) (hs : HandlersTree) → Marks (handlers_pieces room hs) (handlers_marks hs)
  handlers_marked room no_handlers = unmarked []
  handlers_marked room (a_handler spot choices ss hs) =
      let inner = anywhere (delimiter Arrow) ∷ guarded (has_statements ss) (statements_pieces room ss) in
      both ((placed (reserved word.When) spot ∷ choices_pieces choices) ++ inner) (handlers_pieces room hs) (a_place spot ∷ statements_marks ss) (handlers_marks hs)
      (both (placed (reserved word.When) spot ∷ choices_pieces choices) inner (a_place spot ∷ []) (statements_marks ss)
      (at _ (a_place spot) _ _ (unmarked (choices_pieces choices))) (past _ _ _ (guarded_marks (has_statements ss) _ _ (statements_marked room ss))))
      (handlers_marked room hs)

  sequence_marked : (room : ℕ) (body : SequenceTree) → Marks (sequence_pieces room body) (sequence_marks body)
  sequence_marked room (a_sequence start ss hs last) = sequence_of room start ss hs last (statements_marked room ss) (handlers_marked room hs)

-- A unit.
unit_marks_stand : (tree : UnitTree) → Marks (unit_pieces deepest tree) (unit_marks tree)
unit_marks_stand tree =
    front_alone _ ending_pieces _ (front_alone _ (end_name_pieces tree.end_name) _
    (body_marked deepest (flat_map clause_pieces tree.clauses ++ placed (reserved word.Procedure) tree.spot ∷ ident_pieces tree.name) tree.declarations tree.body
    (declarations_marked deepest tree.declarations) (sequence_marked deepest tree.body)))

pub unit_marked : (tree : UnitTree) (ts rest : List Lexeme) → Written (unit_pieces deepest tree) ts rest → Marked rest (unit_marks tree) ts
unit_marked tree = (unit_marks_stand tree).marked
