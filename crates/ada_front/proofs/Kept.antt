-- What is over stays.

use Rattle.std.proofs.Common.{◌≡◌, Bool, true, false, not, List, [], ◌∷◌, ◌++◌, refl, ap, sym, ◌∙◌}
use Rattle.std.specs.Prelude.{if◌then◌else◌}
use Rattle.ada_text.specs.declared.spot.Spot.{Spot}
use Rattle.ada_tree.specs.Declarations.{HeadTree, ChoiceTree}
use Rattle.ada_tree.specs.Expressions.{ExpressionTree}
use Rattle.ada_tree.specs.Names.{Ident}
use Rattle.ada_tree.specs.Records.{null_record}
use Rattle.ada_tree.specs.Statements.{SchemeTree, DeclarationTree, incomplete_type, record_type, specification, body_declaration, DeclarationsTree, no_declarations, a_declaration, StatementTree, if_statement, loop_statement, block, declare_block, StatementsTree, no_statements, a_statement, BranchesTree, no_branches, a_branch, HandlersTree, no_handlers, a_handler, SequenceTree, a_sequence, begin_of, has_statements}
use Rattle.ada_front.specs.Front.{branches_before, branches_begun, declaration_before, declarations_before, declarations_begun, handlers_before, handlers_begun, handlers_start, has_begun, has_body, has_branches, is_completed, left_block, left_body, left_branch, left_declare_block, left_handler, left_if, left_loop, part_left, sequence_before, settled, settled_all, stands_before, statement_before, statements_before, statements_begun, statements_start}
use Rattle.ada_front.specs.Example.{IsOverBefore}
use Rattle.ada_front.specs.Laws.{KeepsWhatIsOver}
use Rattle.ada_front.specs.Marks.{Mark, a_place, branches_marks, declaration_marks, declarations_marks, handlers_marks, InOrder, marks_begun, sequence_marks, simple, statement_marks, statements_marks}
use Rattle.ada_front.specs.Spots.{declaration_start, expression_start, statement_start}
use Rattle.ada_front.proofs.Marks.{in_order_left, in_order_right, kept, kept_cut, kept_none, kept_place, kept_step, kept_whole, nil_right, one_alone, simple_join}

-- The first mark of each stands where it begins.

declaration_first : (fault : Spot) (d : DeclarationTree) (ms : List Mark) → marks_begun fault (declaration_marks d ++ ms) ≡ has_begun fault (declaration_start d)
unfolding declaration_start
declaration_first fault (record_type spot name null_record) ms = refl
declaration_first fault other ms = refl

statement_first : (fault : Spot) (s : StatementTree) (ms : List Mark) → marks_begun fault (statement_marks s ++ ms) ≡ has_begun fault (statement_start s)
unfolding statement_start
statement_first fault (block body) ms = refl
statement_first fault other ms = refl

declarations_first : (fault : Spot) (ds : DeclarationsTree) → marks_begun fault (declarations_marks ds) ≡ declarations_begun fault ds
declarations_first fault no_declarations = refl
declarations_first fault (a_declaration d ds) = declaration_first fault d (declarations_marks ds)

statements_first : (fault : Spot) (ss : StatementsTree) → marks_begun fault (statements_marks ss) ≡ statements_begun fault ss
statements_first fault no_statements = refl
statements_first fault (a_statement s ss) = statement_first fault s (statements_marks ss)

branches_first : (fault : Spot) (bs : BranchesTree) → marks_begun fault (branches_marks bs) ≡ branches_begun fault bs
branches_first fault no_branches = refl
branches_first fault (a_branch condition ss bs) = refl

handlers_first : (fault : Spot) (hs : HandlersTree) → marks_begun fault (handlers_marks hs) ≡ handlers_begun fault hs
handlers_first fault no_handlers = refl
handlers_first fault (a_handler spot choices ss hs) = refl

ending_first : (fault : Spot) (hs : HandlersTree) (last : Spot) → marks_begun fault (handlers_marks hs ++ a_place last ∷ []) ≡ has_begun fault (handlers_start hs last)
ending_first fault no_handlers last = refl
ending_first fault (a_handler spot choices ss hs) last = refl

-- What a settled part has of simple ones.

specified : (b : Bool) (head : HeadTree) (ds : DeclarationsTree)
    → simple (declarations_marks (if b then a_declaration (specification head) ds else ds)) ≡ simple (declarations_marks ds)
specified true head ds = refl
specified false head ds = refl

typed : (b : Bool) (spot : Spot) (name : Ident) (ds : DeclarationsTree)
    → simple (declarations_marks (a_declaration (if b then incomplete_type spot name else record_type spot name null_record) ds)) ≡
    simple (declarations_marks (a_declaration (incomplete_type spot name) ds))
typed true spot name ds = refl
typed false spot name ds = refl

settled_one : (d : DeclarationTree) (ds : DeclarationsTree) → simple (declarations_marks (settled d ds)) ≡ simple (declarations_marks (a_declaration d ds))
settled_one (specification head) ds = specified (has_body head ds) head ds
settled_one (incomplete_type spot name) ds = typed (is_completed name ds) spot name ds
settled_one other ds = refl

after_one : (ms : List Mark) (ds es : DeclarationsTree) → simple (declarations_marks ds) ≡ simple (declarations_marks es)
    → simple (ms ++ declarations_marks ds) ≡ simple (ms ++ declarations_marks es)
after_one ms ds es e =
    simple_join ms (declarations_marks ds) ∙ ap (λ (xs : List Mark). simple ms ++ xs) e ∙ sym (simple_join ms (declarations_marks es))

settled_keeps : (ds : DeclarationsTree) → simple (declarations_marks (settled_all ds)) ≡ simple (declarations_marks ds)
settled_keeps no_declarations = refl
settled_keeps (a_declaration d ds) = settled_one d (settled_all ds) ∙ after_one (declaration_marks d) (settled_all ds) ds (settled_keeps ds)

-- A part: its declarations, its `begin` and its statements.

part_left_by : (fault start : Spot) (all before : DeclarationsTree) (ms : List Mark) (b c : Bool) → stands_before start fault ≡ b → stands_before fault start ≡ c
    → InOrder (declarations_marks all ++ a_place start ∷ ms) → simple (declarations_marks before) ≡ kept fault (declarations_marks all)
    → simple (declarations_marks (if b then all else settled_all (if c then before else all))) ++ kept fault ms
    ≡ kept fault (declarations_marks all ++ a_place start ∷ ms)
part_left_by fault start all before ms true true is isnt order e =
    let other : stands_before fault start ≡ false = one_alone start fault is in
    absurd (cc (isnt, other))
part_left_by fault start all before ms true false is isnt order e =
    ap (λ (xs : List Mark). simple (declarations_marks all) ++ xs) (sym (kept_place fault start ms (in_order_right (declarations_marks all) (a_place start ∷ ms) order).1)) ∙
    sym (kept_whole fault (declarations_marks all) (a_place start ∷ ms) order (ap not isnt))
part_left_by fault start all before ms false false is isnt order e =
    ap (λ (xs : List Mark). xs ++ kept fault ms) (settled_keeps all) ∙
    ap (λ (xs : List Mark). simple (declarations_marks all) ++ xs) (sym (kept_place fault start ms (in_order_right (declarations_marks all) (a_place start ∷ ms) order).1)) ∙
    sym (kept_whole fault (declarations_marks all) (a_place start ∷ ms) order (ap not isnt))
part_left_by fault start all before ms false true is isnt order e =
    let behind : InOrder (a_place start ∷ ms) = in_order_right (declarations_marks all) (a_place start ∷ ms) order in
    ap (λ (xs : List Mark). simple (declarations_marks (settled_all before)) ++ xs) (sym (kept_place fault start ms behind.1) ∙ kept_none fault (a_place start ∷ ms) behind (ap not isnt)) ∙
    nil_right (simple (declarations_marks (settled_all before))) ∙ settled_keeps before ∙ e ∙
    sym (kept_cut fault (declarations_marks all) (a_place start ∷ ms) order (ap not isnt))

-- What is left of a part, and the sequence behind its `begin`.
part_keeps : (fault start : Spot) (all before : DeclarationsTree) (ms left : List Mark)
    → InOrder (declarations_marks all ++ a_place start ∷ ms) → simple (declarations_marks before) ≡ kept fault (declarations_marks all)
    → simple left ≡ kept fault ms
    → simple (declarations_marks (part_left fault start all before)) ++ simple left ≡ kept fault (declarations_marks all ++ a_place start ∷ ms)
part_keeps fault start all before ms left order e f =
    ap (λ (xs : List Mark). simple (declarations_marks (part_left fault start all before)) ++ xs) f ∙
    part_left_by fault start all before ms (stands_before start fault) (stands_before fault start) refl refl order e

-- What is left of a construct.

part_has : (ds : DeclarationsTree) (start : Spot) (ms : List Mark)
    → simple ((declarations_marks ds ++ a_place start ∷ ms) ++ []) ≡ simple (declarations_marks ds) ++ simple ms
part_has ds start ms = ap simple (nil_right (declarations_marks ds ++ a_place start ∷ ms)) ∙ simple_join (declarations_marks ds) (a_place start ∷ ms)

body_left_has : (head : HeadTree) (ds : DeclarationsTree) (body : SequenceTree)
    → simple (declarations_marks (left_body head ds body)) ≡ simple (declarations_marks ds) ++ simple (sequence_marks body)
body_left_has head no_declarations (a_sequence start no_statements hs last) = refl
body_left_has head no_declarations (a_sequence start (a_statement s ss) hs last) =
    part_has no_declarations start (sequence_marks (a_sequence start (a_statement s ss) hs last))
body_left_has head (a_declaration d ds) (a_sequence start ss hs last) = part_has (a_declaration d ds) start (sequence_marks (a_sequence start ss hs last))

declare_block_left_has : (spot : Spot) (ds : DeclarationsTree) (body : SequenceTree)
    → simple (statements_marks (left_declare_block spot ds body)) ≡ simple (declarations_marks ds) ++ simple (sequence_marks body)
declare_block_left_has spot no_declarations (a_sequence start no_statements hs last) = refl
declare_block_left_has spot no_declarations (a_sequence start (a_statement s ss) hs last) =
    part_has no_declarations start (sequence_marks (a_sequence start (a_statement s ss) hs last))
declare_block_left_has spot (a_declaration d ds) (a_sequence start ss hs last) =
    part_has (a_declaration d ds) start (sequence_marks (a_sequence start ss hs last))

block_left_has : (body : SequenceTree) → simple (statements_marks (left_block body)) ≡ simple (sequence_marks body)
block_left_has (a_sequence start no_statements hs last) = refl
block_left_has (a_sequence start (a_statement s ss) hs last) = ap simple (nil_right (sequence_marks (a_sequence start (a_statement s ss) hs last)))

loop_left_has : (spot : Spot) (scheme : SchemeTree) (ss : StatementsTree) (last : Spot)
    → simple (statements_marks (left_loop spot scheme ss last)) ≡ simple (statements_marks ss)
loop_left_has spot scheme no_statements last = refl
loop_left_has spot scheme (a_statement s ss) last = ap simple (nil_right (statements_marks (a_statement s ss)))

if_left_has : (spot : Spot) (bs : BranchesTree) (others : StatementsTree) (last : Spot)
    → simple (statements_marks (left_if spot bs others last)) ≡
    simple (if has_branches bs then branches_marks bs ++ a_place (statements_start others last) ∷ statements_marks others else [])
if_left_has spot no_branches others last = refl
if_left_has spot (a_branch condition ss bs) others last =
    ap simple (nil_right (branches_marks (a_branch condition ss bs) ++ a_place (statements_start others last) ∷ statements_marks others))

branch_left_has : (condition : ExpressionTree) (ss : StatementsTree) → simple (branches_marks (left_branch condition ss)) ≡ simple (statements_marks ss)
branch_left_has condition no_statements = refl
branch_left_has condition (a_statement s ss) = ap simple (nil_right (statements_marks (a_statement s ss)))

handler_left_has : (spot : Spot) (choices : List ChoiceTree) (ss : StatementsTree) → simple (handlers_marks (left_handler spot choices ss)) ≡ simple (statements_marks ss)
handler_left_has spot choices no_statements = refl
handler_left_has spot choices (a_statement s ss) = ap simple (nil_right (statements_marks (a_statement s ss)))

-- An `if`.

branches_have : (bs : BranchesTree) (ms : List Mark) → has_branches bs ≡ true
    → simple (if has_branches bs then branches_marks bs ++ ms else []) ≡ simple (branches_marks bs) ++ simple ms
branches_have no_branches ms e = absurd (cc e)
branches_have (a_branch condition ss bs) ms e = simple_join (branches_marks (a_branch condition ss bs)) ms

branches_alone : (bs : BranchesTree) (ms : List Mark) → simple ms ≡ []
    → simple (if has_branches bs then branches_marks bs ++ ms else []) ≡ simple (branches_marks bs)
branches_alone no_branches ms e = refl
branches_alone (a_branch condition ss bs) ms e =
    simple_join (branches_marks (a_branch condition ss bs)) ms ∙
    ap (λ (xs : List Mark). simple (branches_marks (a_branch condition ss bs)) ++ xs) e ∙ nil_right (simple (branches_marks (a_branch condition ss bs)))

if_by : (fault : Spot) (bs before : BranchesTree) (others after : StatementsTree) (at last : Spot) (b : Bool) → stands_before fault at ≡ b
    → InOrder (branches_marks bs ++ a_place at ∷ statements_marks others)
    → simple (branches_marks before) ≡ kept fault (branches_marks bs) → simple (statements_marks after) ≡ kept fault (statements_marks others)
    → has_branches bs ≡ true
    → simple (if has_branches (if b then before else bs) then branches_marks (if b then before else bs) ++ a_place (statements_start after last) ∷ statements_marks after else [])
    ≡ kept fault (branches_marks bs ++ a_place at ∷ statements_marks others)
if_by fault bs before others after at last true is order e f there =
    let behind : InOrder (a_place at ∷ statements_marks others) = in_order_right (branches_marks bs) (a_place at ∷ statements_marks others) order in
    branches_alone before (a_place (statements_start after last) ∷ statements_marks after)
    (f ∙ sym (kept_place fault at (statements_marks others) behind.1) ∙ kept_none fault (a_place at ∷ statements_marks others) behind (ap not is)) ∙
    e ∙ sym (kept_cut fault (branches_marks bs) (a_place at ∷ statements_marks others) order (ap not is))
if_by fault bs before others after at last false is order e f there =
    let behind : InOrder (a_place at ∷ statements_marks others) = in_order_right (branches_marks bs) (a_place at ∷ statements_marks others) order in
    branches_have bs (a_place (statements_start after last) ∷ statements_marks after) there ∙
    ap (λ (xs : List Mark). simple (branches_marks bs) ++ xs) (f ∙ sym (kept_place fault at (statements_marks others) behind.1)) ∙
    sym (kept_whole fault (branches_marks bs) (a_place at ∷ statements_marks others) order (ap not is))

no_branches_left : (fault : Spot) (b : Bool) → (if b then branches_before fault no_branches else no_branches) ≡ no_branches
unfolding branches_before
no_branches_left fault true = refl
no_branches_left fault false = refl

if_keeps : (fault spot : Spot) (bs : BranchesTree) (others : StatementsTree) (last : Spot)
    → (InOrder (branches_marks bs) → simple (branches_marks (branches_before fault bs)) ≡ kept fault (branches_marks bs))
    → (InOrder (statements_marks others) → simple (statements_marks (statements_before fault others)) ≡ kept fault (statements_marks others))
    → InOrder (statement_marks (if_statement spot bs others last))
    → simple (statements_marks (left_if spot (if stands_before fault (statements_start others last) then branches_before fault bs else bs) (statements_before fault others) last))
    ≡ kept fault (statement_marks (if_statement spot bs others last))
if_keeps fault spot no_branches others last e f order =
    ap (λ (bs : BranchesTree). simple (statements_marks (left_if spot bs (statements_before fault others) last)))
    (no_branches_left fault (stands_before fault (statements_start others last)))
if_keeps fault spot (a_branch condition ss bs) others last e f order =
    let at : Spot = statements_start others last in
    let all : BranchesTree = a_branch condition ss bs in
    let parts : InOrder (branches_marks all ++ a_place at ∷ statements_marks others) = order.1 in
    if_left_has spot (if stands_before fault at then branches_before fault all else all) (statements_before fault others) last ∙
    if_by fault all (branches_before fault all) others (statements_before fault others) at last (stands_before fault at) refl parts
    (e (in_order_left (branches_marks all) (a_place at ∷ statements_marks others) parts))
    (f (in_order_right (branches_marks all) (a_place at ∷ statements_marks others) parts).1) refl ∙
    sym (kept_place fault spot (branches_marks all ++ a_place at ∷ statements_marks others) parts)

-- A sequence.

ending_alone : (hs : HandlersTree) (last : Spot) → simple (handlers_marks hs) ≡ [] → simple (handlers_marks hs ++ a_place last ∷ []) ≡ []
ending_alone hs last e = simple_join (handlers_marks hs) (a_place last ∷ []) ∙ nil_right (simple (handlers_marks hs)) ∙ e

sequence_alone : (ss : StatementsTree) (ms : List Mark) → simple ms ≡ []
    → simple (if has_statements ss then statements_marks ss ++ ms else []) ≡ simple (statements_marks ss)
sequence_alone no_statements ms e = refl
sequence_alone (a_statement s ss) ms e =
    simple_join (statements_marks (a_statement s ss)) ms ∙
    ap (λ (xs : List Mark). simple (statements_marks (a_statement s ss)) ++ xs) e ∙ nil_right (simple (statements_marks (a_statement s ss)))

sequence_has : (ss : StatementsTree) (ms : List Mark) → has_statements ss ≡ true
    → simple (if has_statements ss then statements_marks ss ++ ms else []) ≡ simple (statements_marks ss) ++ simple ms
sequence_has no_statements ms e = absurd (cc e)
sequence_has (a_statement s ss) ms e = simple_join (statements_marks (a_statement s ss)) ms

no_handler_begun : (fault : Spot) (hs : HandlersTree) (last : Spot) → stands_before fault (handlers_start hs last) ≡ true → marks_begun fault (handlers_marks hs) ≡ false
no_handler_begun fault no_handlers last e = refl
no_handler_begun fault (a_handler spot choices ss hs) last e = ap not e

ending_by : (fault : Spot) (hs after : HandlersTree) (last : Spot) (d : Bool) → stands_before fault last ≡ d
    → InOrder (handlers_marks hs ++ a_place last ∷ []) → simple (handlers_marks after) ≡ kept fault (handlers_marks hs)
    → simple (handlers_marks (if d then after else hs) ++ a_place last ∷ []) ≡ kept fault (handlers_marks hs ++ a_place last ∷ [])
ending_by fault hs after last true is order e =
    simple_join (handlers_marks after) (a_place last ∷ []) ∙ nil_right (simple (handlers_marks after)) ∙ e ∙
    sym (kept_cut fault (handlers_marks hs) (a_place last ∷ []) order (ap not is))
ending_by fault hs after last false is order e =
    simple_join (handlers_marks hs) (a_place last ∷ []) ∙ sym (kept_whole fault (handlers_marks hs) (a_place last ∷ []) order (ap not is))

sequence_by : (fault : Spot) (ss before : StatementsTree) (hs after : HandlersTree) (last : Spot) (c : Bool) → stands_before fault (handlers_start hs last) ≡ c
    → InOrder (statements_marks ss ++ (handlers_marks hs ++ a_place last ∷ []))
    → simple (statements_marks before) ≡ kept fault (statements_marks ss) → simple (handlers_marks after) ≡ kept fault (handlers_marks hs)
    → has_statements ss ≡ true
    → simple (if has_statements (if c then before else ss) then statements_marks (if c then before else ss) ++
    (handlers_marks (if stands_before fault last then after else hs) ++ a_place last ∷ []) else [])
    ≡ kept fault (statements_marks ss ++ (handlers_marks hs ++ a_place last ∷ []))
sequence_by fault ss before hs after last true is order e f there =
    let ending : List Mark = handlers_marks hs ++ a_place last ∷ [] in
    let behind : InOrder ending = in_order_right (statements_marks ss) ending order in
    let unbegun : marks_begun fault ending ≡ false = ending_first fault hs last ∙ ap not is in
    sequence_alone before (handlers_marks (if stands_before fault last then after else hs) ++ a_place last ∷ [])
    (ending_by fault hs after last (stands_before fault last) refl behind f ∙ kept_none fault ending behind unbegun) ∙
    e ∙ sym (kept_cut fault (statements_marks ss) ending order unbegun)
sequence_by fault ss before hs after last false is order e f there =
    let ending : List Mark = handlers_marks hs ++ a_place last ∷ [] in
    let behind : InOrder ending = in_order_right (statements_marks ss) ending order in
    sequence_has ss (handlers_marks (if stands_before fault last then after else hs) ++ a_place last ∷ []) there ∙
    ap (λ (xs : List Mark). simple (statements_marks ss) ++ xs) (ending_by fault hs after last (stands_before fault last) refl behind f) ∙
    sym (kept_whole fault (statements_marks ss) ending order (ending_first fault hs last ∙ ap not is))

no_statements_left : (fault : Spot) (b : Bool) → (if b then statements_before fault no_statements else no_statements) ≡ no_statements
unfolding statements_before
no_statements_left fault true = refl
no_statements_left fault false = refl

sequence_parts_keep : (fault start : Spot) (ss : StatementsTree) (hs : HandlersTree) (last : Spot)
    → (InOrder (statements_marks ss) → simple (statements_marks (statements_before fault ss)) ≡ kept fault (statements_marks ss))
    → (InOrder (handlers_marks hs) → simple (handlers_marks (handlers_before fault hs)) ≡ kept fault (handlers_marks hs))
    → InOrder (sequence_marks (a_sequence start ss hs last))
    → simple (sequence_marks (sequence_before fault (a_sequence start ss hs last))) ≡ kept fault (sequence_marks (a_sequence start ss hs last))
unfolding sequence_before
sequence_parts_keep fault start no_statements hs last e f order =
    ap (λ (ss : StatementsTree). simple (sequence_marks (a_sequence start ss (if stands_before fault last then handlers_before fault hs else hs) last)))
    (no_statements_left fault (stands_before fault (handlers_start hs last)))
sequence_parts_keep fault start (a_statement s ss) hs last e f order =
    let all : StatementsTree = a_statement s ss in
    let ending : List Mark = handlers_marks hs ++ a_place last ∷ [] in
    sequence_by fault all (statements_before fault all) hs (handlers_before fault hs) last (stands_before fault (handlers_start hs last)) refl order
    (e (in_order_left (statements_marks all) ending order))
    (f (in_order_left (handlers_marks hs) (a_place last ∷ []) (in_order_right (statements_marks all) ending order))) refl

mutual
  unfolding declarations_before

  declarations_keep : (fault : Spot) (ds : DeclarationsTree) → InOrder (declarations_marks ds)
      → simple (declarations_marks (declarations_before fault ds)) ≡ kept fault (declarations_marks ds)
  declarations_keep fault no_declarations order = refl
  declarations_keep fault (a_declaration d ds) order =
      kept_step declarations_marks fault (declaration_marks d) (declarations_marks ds)
      no_declarations (a_declaration d (declarations_before fault ds)) (declaration_before fault d)
      (stands_before fault (declaration_start d)) (declarations_begun fault ds)
      order (declaration_first fault d (declarations_marks ds)) (declarations_first fault ds) refl
      (simple_join (declaration_marks d) (declarations_marks (declarations_before fault ds)) ∙
      ap (λ (xs : List Mark). simple (declaration_marks d) ++ xs) (declarations_keep fault ds (in_order_right (declaration_marks d) (declarations_marks ds) order)))
      (declaration_keeps fault d (in_order_left (declaration_marks d) (declarations_marks ds) order))

  declaration_keeps : (fault : Spot) (d : DeclarationTree) → InOrder (declaration_marks d)
      → simple (declarations_marks (declaration_before fault d)) ≡ kept fault (declaration_marks d)
  declaration_keeps fault (body_declaration head ds body end_name) order =
      let behind : List Mark = a_place (begin_of body) ∷ sequence_marks body in
      body_left_has head (part_left fault (begin_of body) ds (declarations_before fault ds)) (sequence_before fault body) ∙
      part_keeps fault (begin_of body) ds (declarations_before fault ds) (sequence_marks body) (sequence_marks (sequence_before fault body)) order.1
      (declarations_keep fault ds (in_order_left (declarations_marks ds) behind order.1))
      (sequence_keeps fault body (in_order_right (declarations_marks ds) behind order.1).1) ∙
      sym (kept_place fault (declaration_start (body_declaration head ds body end_name)) (declarations_marks ds ++ behind) order.1)
  declaration_keeps fault (record_type spot name null_record) order = refl
  declaration_keeps fault other order = refl

  statements_keep : (fault : Spot) (ss : StatementsTree) → InOrder (statements_marks ss)
      → simple (statements_marks (statements_before fault ss)) ≡ kept fault (statements_marks ss)
  statements_keep fault no_statements order = refl
  statements_keep fault (a_statement s ss) order =
      kept_step statements_marks fault (statement_marks s) (statements_marks ss)
      no_statements (a_statement s (statements_before fault ss)) (statement_before fault s)
      (stands_before fault (statement_start s)) (statements_begun fault ss)
      order (statement_first fault s (statements_marks ss)) (statements_first fault ss) refl
      (simple_join (statement_marks s) (statements_marks (statements_before fault ss)) ∙
      ap (λ (xs : List Mark). simple (statement_marks s) ++ xs) (statements_keep fault ss (in_order_right (statement_marks s) (statements_marks ss) order)))
      (statement_keeps fault s (in_order_left (statement_marks s) (statements_marks ss) order))

  statement_keeps : (fault : Spot) (s : StatementTree) → InOrder (statement_marks s)
      → simple (statements_marks (statement_before fault s)) ≡ kept fault (statement_marks s)
  statement_keeps fault (if_statement spot bs others last) order = if_keeps fault spot bs others last (branches_keep fault bs) (statements_keep fault others) order
  statement_keeps fault (loop_statement spot scheme ss last) order =
      loop_left_has spot scheme (statements_before fault ss) last ∙ statements_keep fault ss order.1 ∙ sym (kept_place fault spot (statements_marks ss) order.1)
  statement_keeps fault (block body) order =
      block_left_has (sequence_before fault body) ∙ sequence_keeps fault body order.1 ∙ sym (kept_place fault (begin_of body) (sequence_marks body) order.1)
  statement_keeps fault (declare_block spot ds body) order =
      let behind : List Mark = a_place (begin_of body) ∷ sequence_marks body in
      declare_block_left_has spot (part_left fault (begin_of body) ds (declarations_before fault ds)) (sequence_before fault body) ∙
      part_keeps fault (begin_of body) ds (declarations_before fault ds) (sequence_marks body) (sequence_marks (sequence_before fault body)) order.1
      (declarations_keep fault ds (in_order_left (declarations_marks ds) behind order.1))
      (sequence_keeps fault body (in_order_right (declarations_marks ds) behind order.1).1) ∙
      sym (kept_place fault spot (declarations_marks ds ++ behind) order.1)
  statement_keeps fault other order = refl

  branches_keep : (fault : Spot) (bs : BranchesTree) → InOrder (branches_marks bs)
      → simple (branches_marks (branches_before fault bs)) ≡ kept fault (branches_marks bs)
  branches_keep fault no_branches order = refl
  branches_keep fault (a_branch condition ss bs) order =
      let first : List Mark = a_place (expression_start condition) ∷ statements_marks ss in
      kept_step branches_marks fault first (branches_marks bs)
      no_branches (a_branch condition ss (branches_before fault bs)) (left_branch condition (statements_before fault ss))
      (stands_before fault (expression_start condition)) (branches_begun fault bs)
      order refl (branches_first fault bs) refl
      (simple_join first (branches_marks (branches_before fault bs)) ∙
      ap (λ (xs : List Mark). simple first ++ xs) (branches_keep fault bs (in_order_right first (branches_marks bs) order)))
      (branch_left_has condition (statements_before fault ss) ∙ statements_keep fault ss (in_order_left (statements_marks ss) (branches_marks bs) order.1) ∙
      sym (kept_place fault (expression_start condition) (statements_marks ss) (in_order_left (statements_marks ss) (branches_marks bs) order.1)))

  handlers_keep : (fault : Spot) (hs : HandlersTree) → InOrder (handlers_marks hs)
      → simple (handlers_marks (handlers_before fault hs)) ≡ kept fault (handlers_marks hs)
  handlers_keep fault no_handlers order = refl
  handlers_keep fault (a_handler spot choices ss hs) order =
      let first : List Mark = a_place spot ∷ statements_marks ss in
      kept_step handlers_marks fault first (handlers_marks hs)
      no_handlers (a_handler spot choices ss (handlers_before fault hs)) (left_handler spot choices (statements_before fault ss))
      (stands_before fault spot) (handlers_begun fault hs)
      order refl (handlers_first fault hs) refl
      (simple_join first (handlers_marks (handlers_before fault hs)) ∙
      ap (λ (xs : List Mark). simple first ++ xs) (handlers_keep fault hs (in_order_right first (handlers_marks hs) order)))
      (handler_left_has spot choices (statements_before fault ss) ∙ statements_keep fault ss (in_order_left (statements_marks ss) (handlers_marks hs) order.1) ∙
      sym (kept_place fault spot (statements_marks ss) (in_order_left (statements_marks ss) (handlers_marks hs) order.1)))

  sequence_keeps : (fault : Spot) (body : SequenceTree) → InOrder (sequence_marks body)
      → simple (sequence_marks (sequence_before fault body)) ≡ kept fault (sequence_marks body)
  sequence_keeps fault (a_sequence start ss hs last) order =
      sequence_parts_keep fault start ss hs last (statements_keep fault ss) (handlers_keep fault hs) order

begin_stays : (fault : Spot) (body : SequenceTree) → begin_of (sequence_before fault body) ≡ begin_of body
unfolding sequence_before
begin_stays fault (a_sequence start ss hs last) = refl

pub keeps_what_is_over : KeepsWhatIsOver
keeps_what_is_over fault tree order =
    let behind : List Mark = a_place (begin_of tree.body) ∷ sequence_marks tree.body in
    let left : DeclarationsTree = part_left fault (begin_of tree.body) tree.declarations (declarations_before fault tree.declarations) in
    simple_join (declarations_marks left) (a_place (begin_of (sequence_before fault tree.body)) ∷ sequence_marks (sequence_before fault tree.body)) ∙
    part_keeps fault (begin_of tree.body) tree.declarations (declarations_before fault tree.declarations) (sequence_marks tree.body)
    (sequence_marks (sequence_before fault tree.body)) order
    (declarations_keep fault tree.declarations (in_order_left (declarations_marks tree.declarations) behind order))
    (sequence_keeps fault tree.body (in_order_right (declarations_marks tree.declarations) behind order).1)

pub over_before : IsOverBefore
unfolding declaration_start statement_start
over_before = (assumption refl, refl)
