-- Constructs that are cut, by what their parts become.

use Rattle.std.proofs.Common.{◌≡◌, List, Option, None, refl, ap, sym, ◌∙◌}
use Rattle.std.specs.Prelude.{if◌then◌else◌}
use Rattle.std.specs.Global.{Vec}
use Rattle.ada_text.specs.declared.spot.Spot.{Spot}
use Rattle.ada_tree.specs.declared.names.Identifier.{Identifier}
use Rattle.ada_tree.specs.declared.declarations.Declaration as declaration
use Rattle.ada_tree.specs.declared.declarations.Declaration.{Declaration, out-Declaration, roll-out-Declaration}
use Rattle.ada_tree.specs.declared.declarations.ProcedureHead.{ProcedureHead}
use Rattle.ada_tree.specs.declared.statements.Branch.{Branch}
use Rattle.ada_tree.specs.declared.statements.Handler.{Handler}
use Rattle.ada_tree.specs.declared.statements.Scheme.{Scheme}
use Rattle.ada_tree.specs.declared.statements.Sequence.{Sequence, out-Sequence}
use Rattle.ada_tree.specs.declared.statements.Statement as statement
use Rattle.ada_tree.specs.declared.statements.Statement.{Statement, out-Statement, roll-out-Statement}
use Rattle.ada_tree.specs.Declarations.{head_of}
use Rattle.ada_tree.specs.declared.unit.Unit.{Unit as UnitOf}
use Rattle.ada_tree.specs.Statements.{begin_of, DeclarationsTree, no_declarations, StatementsTree, no_statements, BranchesTree, HandlersTree, SequenceTree, a_sequence}
use Rattle.ada_tree.specs.StatementView.{unit_of, declaration_of, declarations_of, scheme_of, sequence_of, statement_of, statements_of, body_view, declare_block_view, if_view, loop_view, block_view}
use Rattle.ada_front.specs.Front.{branches_before, declaration_before, front_of, handlers_before, handlers_start, left_block, left_body, left_declare_block, left_if, left_loop, part_before, sequence_before, stands_before, statement_before, statements_before, statements_start}
use Rattle.ada_front.specs.View.{branches_of, handlers_of}
use Rattle.ada_front.proofs.Views.{begin_view}
use Rattle.ada_front.proofs.Views.{body_view as sequence_parts}

-- The declarations of a part before its `begin`.
part_cut : (fault : Spot) (ds : Vec Declaration) (body : Sequence) (after : DeclarationsTree)
    → after ≡ part_before fault (out-Sequence body).begin (declarations_of ds.items)
    → after ≡ part_before fault (begin_of (sequence_of body)) (declarations_of ds.items)
part_cut fault ds body after e = e ∙ ap (λ (start : Spot). part_before fault start (declarations_of ds.items)) (sym (begin_view body))

-- A body.
pub body_cut : (fault : Spot) (d : Declaration) (head : ProcedureHead) (ds : Vec Declaration) (body : Sequence) (name : Option Identifier)
    (after : DeclarationsTree) (sequence : SequenceTree) (left : DeclarationsTree)
    → d ≡ declaration.Body head ds body name → after ≡ part_before fault (out-Sequence body).begin (declarations_of ds.items)
    → sequence ≡ sequence_before fault (sequence_of body) → left ≡ left_body (head_of head) after sequence → left ≡ declaration_before fault (declaration_of d)
unfolding declaration_before
body_cut fault d head ds body name after sequence left is part inside e =
    e ∙ ap (λ (a : DeclarationsTree). left_body (head_of head) a sequence) (part_cut fault ds body after part) ∙
    ap (left_body (head_of head) (part_before fault (begin_of (sequence_of body)) (declarations_of ds.items))) inside ∙
    sym (ap (λ (x : Declaration). declaration_before fault (declaration_of x)) is ∙ ap (declaration_before fault) (body_view head ds body name))

-- Another declaration.
pub other_declaration : (fault : Spot) (d : Declaration)
    → ((head : ProcedureHead) (ds : Vec Declaration) (body : Sequence) (name : Option Identifier) → d ≡ declaration.Body head ds body name → ⊥)
    → no_declarations ≡ declaration_before fault (declaration_of d)
unfolding declaration_before declaration_of declaration.roll-Declaration denote.Hole.Carrier.roll out-Declaration denote.Hole.Carrier.out
other_declaration fault (declaration.Exception name) other = refl
other_declaration fault (declaration.Constant name value) other = refl
other_declaration fault (declaration.Pool name type_name label size) other = refl
other_declaration fault (declaration.Object name type_name initial) other = refl
other_declaration fault (declaration.Borrower name designated initial) other = refl
other_declaration fault (declaration.IncompleteType spot name) other = refl
other_declaration fault (declaration.AccessType spot name designated aspect) other = refl
other_declaration fault (declaration.RecordType spot name definition) other = refl
other_declaration fault (declaration.DerivedType spot name parent definition) other = refl
other_declaration fault (declaration.Clause spot name attribute value) other = refl
other_declaration fault (declaration.Specification head) other = refl
other_declaration fault (declaration.Body' head shape ds body name) other =
    absurd (other _ _ _ _ (sym (roll-out-Declaration (declaration.Body' head shape ds body name))))
other_declaration fault (declaration.Instance spot name generic designated access) other = refl

-- An `if`.
pub if_cut : (fault : Spot) (s : Statement) (spot : Spot) (bs : Vec Branch) (ss : Vec Statement) (last : Spot)
    (lent : List Statement) (behind : Spot) (conditions : BranchesTree) (others left : StatementsTree)
    → s ≡ statement.If spot bs ss last → lent ≡ ss.items → behind ≡ statements_start (statements_of lent) last
    → conditions ≡ (if stands_before fault behind then branches_before fault (branches_of bs.items) else branches_of bs.items)
    → others ≡ statements_before fault (statements_of ss.items) → left ≡ left_if spot conditions others last → left ≡ statement_before fault (statement_of s)
unfolding statement_before
if_cut fault s spot bs ss last lent behind conditions others left is same start before after e =
    let there : behind ≡ statements_start (statements_of ss.items) last = start ∙ ap (λ (xs : List Statement). statements_start (statements_of xs) last) same in
    e ∙
    ap (λ (b : BranchesTree). left_if spot b others last)
    (before ∙ ap (λ (at : Spot). if stands_before fault at then branches_before fault (branches_of bs.items) else branches_of bs.items) there) ∙
    ap (λ (o : StatementsTree). left_if spot (if stands_before fault (statements_start (statements_of ss.items) last) then branches_before fault (branches_of bs.items) else branches_of bs.items) o last) after ∙
    sym (ap (λ (x : Statement). statement_before fault (statement_of x)) is ∙ ap (statement_before fault) (if_view spot bs ss last))

-- A loop.
pub loop_cut : (fault : Spot) (s : Statement) (spot : Spot) (scheme : Scheme) (ss : Vec Statement) (last : Spot) (after left : StatementsTree)
    → s ≡ statement.Loop spot scheme ss last → after ≡ statements_before fault (statements_of ss.items)
    → left ≡ left_loop spot (scheme_of scheme) after last → left ≡ statement_before fault (statement_of s)
unfolding statement_before
loop_cut fault s spot scheme ss last after left is inside e =
    e ∙ ap (λ (a : StatementsTree). left_loop spot (scheme_of scheme) a last) inside ∙
    sym (ap (λ (x : Statement). statement_before fault (statement_of x)) is ∙ ap (statement_before fault) (loop_view spot scheme ss last))

-- A block without declarations.
pub block_cut : (fault : Spot) (s : Statement) (body : Sequence) (sequence : SequenceTree) (left : StatementsTree)
    → s ≡ statement.Block body → sequence ≡ sequence_before fault (sequence_of body) → left ≡ left_block sequence → left ≡ statement_before fault (statement_of s)
unfolding statement_before
block_cut fault s body sequence left is inside e =
    e ∙ ap left_block inside ∙
    sym (ap (λ (x : Statement). statement_before fault (statement_of x)) is ∙ ap (statement_before fault) (block_view body))

-- A block with declarations.
pub declare_block_cut : (fault : Spot) (s : Statement) (spot : Spot) (ds : Vec Declaration) (body : Sequence)
    (after : DeclarationsTree) (sequence : SequenceTree) (left : StatementsTree)
    → s ≡ statement.DeclareBlock spot ds body → after ≡ part_before fault (out-Sequence body).begin (declarations_of ds.items)
    → sequence ≡ sequence_before fault (sequence_of body) → left ≡ left_declare_block spot after sequence → left ≡ statement_before fault (statement_of s)
unfolding statement_before
declare_block_cut fault s spot ds body after sequence left is part inside e =
    e ∙ ap (λ (a : DeclarationsTree). left_declare_block spot a sequence) (part_cut fault ds body after part) ∙
    ap (left_declare_block spot (part_before fault (begin_of (sequence_of body)) (declarations_of ds.items))) inside ∙
    sym (ap (λ (x : Statement). statement_before fault (statement_of x)) is ∙ ap (statement_before fault) (declare_block_view spot ds body))

-- Another statement.
pub other_statement : (fault : Spot) (s : Statement)
    → ((spot : Spot) (bs : Vec Branch) (ss : Vec Statement) (last : Spot) → s ≡ statement.If spot bs ss last → ⊥)
    → ((spot : Spot) (scheme : Scheme) (ss : Vec Statement) (last : Spot) → s ≡ statement.Loop spot scheme ss last → ⊥)
    → ((body : Sequence) → s ≡ statement.Block body → ⊥)
    → ((spot : Spot) (ds : Vec Declaration) (body : Sequence) → s ≡ statement.DeclareBlock spot ds body → ⊥)
    → no_statements ≡ statement_before fault (statement_of s)
unfolding statement_before statement_of statement.roll-Statement denote.Hole.Carrier.roll out-Statement denote.Hole.Carrier.out
other_statement fault (statement.Null spot) a b c d = refl
other_statement fault (statement.Assignment target value) a b c d = refl
other_statement fault (statement.Call procedure arguments) a b c d = refl
other_statement fault (statement.If' spot shape branches others otherwise last) a b c d =
    absurd (a _ _ _ _ (sym (roll-out-Statement (statement.If' spot shape branches others otherwise last))))
other_statement fault (statement.Loop' spot scheme shape ss last) a b c d =
    absurd (b _ _ _ _ (sym (roll-out-Statement (statement.Loop' spot scheme shape ss last))))
other_statement fault (statement.Exit spot condition) a b c d = refl
other_statement fault (statement.Return spot) a b c d = refl
other_statement fault (statement.Raise spot name) a b c d = refl
other_statement fault (statement.Block body) a b c d = absurd (c body refl)
other_statement fault (statement.DeclareBlock' spot shape ds body) a b c d =
    absurd (d _ _ _ (sym (roll-out-Statement (statement.DeclareBlock' spot shape ds body))))

-- A sequence.
pub sequence_cut : (fault : Spot) (body : Sequence) (lent : List Handler) (behind : Spot) (ss : StatementsTree) (hs : HandlersTree)
    → lent ≡ (out-Sequence body).handlers.items → behind ≡ handlers_start (handlers_of lent) (out-Sequence body).«end»
    → ss ≡ (if stands_before fault behind then statements_before fault (statements_of (out-Sequence body).statements.items) else statements_of (out-Sequence body).statements.items)
    → hs ≡ (if stands_before fault (out-Sequence body).«end» then handlers_before fault (handlers_of (out-Sequence body).handlers.items) else handlers_of (out-Sequence body).handlers.items)
    → a_sequence (out-Sequence body).begin ss hs (out-Sequence body).«end» ≡ sequence_before fault (sequence_of body)
unfolding sequence_before
sequence_cut fault body lent behind ss hs same start before after =
    let last : Spot = (out-Sequence body).«end» in
    let there : behind ≡ handlers_start (handlers_of (out-Sequence body).handlers.items) (out-Sequence body).«end» =
    start ∙ ap (λ (xs : List Handler). handlers_start (handlers_of xs) (out-Sequence body).«end») same in
    ap (λ (a : StatementsTree). a_sequence (out-Sequence body).begin a hs (out-Sequence body).«end»)
    (before ∙ ap (λ (at : Spot). if stands_before fault at then statements_before fault (statements_of (out-Sequence body).statements.items) else statements_of (out-Sequence body).statements.items) there) ∙
    ap (λ (h : HandlersTree). a_sequence (out-Sequence body).begin
    (if stands_before fault (handlers_start (handlers_of (out-Sequence body).handlers.items) (out-Sequence body).«end»)
    then statements_before fault (statements_of (out-Sequence body).statements.items) else statements_of (out-Sequence body).statements.items) h (out-Sequence body).«end») after ∙
    ap (sequence_before fault) (sym (sequence_parts body))

-- A unit.
pub unit_cut : (fault : Spot) (u : UnitOf) (old : Sequence) (ds : DeclarationsTree) (body : SequenceTree)
    → ds ≡ part_before fault (out-Sequence u.body).begin (declarations_of u.declarations.items) → old ≡ u.body → body ≡ sequence_before fault (sequence_of old)
    → record (unit_of u) { declarations = ds; body = body; end_name = None } ≡ front_of fault (unit_of u)
unit_cut fault u old ds body part same inside =
    ap (λ (left : DeclarationsTree). record (unit_of u) { declarations = left; body = body; end_name = None }) (part_cut fault u.declarations u.body ds part) ∙
    ap (λ (left : SequenceTree). record (unit_of u) { declarations = part_before fault (begin_of (sequence_of u.body)) (declarations_of u.declarations.items); body = left; end_name = None })
    (inside ∙ ap (λ (s : Sequence). sequence_before fault (sequence_of s)) same)
