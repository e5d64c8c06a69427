-- What is left of a construct, where something stays in it and where nothing does.

use Rattle.std.proofs.Common.{◌≡◌, ℕ, suc, Bool, true, false, not, List, [], ◌∷◌, length, arith, refl, ap, sym}
use Rattle.std.specs.Prelude.{nat_eq}
use Rattle.ada_text.specs.declared.spot.Spot.{Spot}
use Rattle.ada_tree.specs.declared.declarations.Declaration.{Declaration}
use Rattle.ada_tree.specs.declared.statements.Branch.{Branch}
use Rattle.ada_tree.specs.declared.statements.Sequence.{Sequence, out-Sequence}
use Rattle.ada_tree.specs.declared.statements.Statement.{Statement}
use Rattle.ada_tree.specs.Declarations.{ChoiceTree}
use Rattle.ada_tree.specs.Expressions.{ExpressionTree}
use Rattle.ada_tree.specs.Statements.{DeclarationTree, no_declarations, a_declaration, StatementTree, StatementsTree, no_statements, a_statement, no_branches, a_branch, no_handlers, a_handler, has_statements}
use Rattle.ada_tree.specs.StatementView.{declarations_of, sequence_of, statements_of}
use Rattle.ada_front.specs.Front.{has_branches, has_declarations, left_branch, left_declaration, left_handler, left_statement, statements_in}
use Rattle.ada_front.specs.View.{branches_of}
use Rattle.ada_front.proofs.Views.{body_view}

pub declaration_stays : (b : Bool) (d : DeclarationTree) → b ≡ true → left_declaration b d ≡ a_declaration d no_declarations
declaration_stays true d e = refl
declaration_stays false d e = absurd (cc e)

pub declaration_goes : (b : Bool) (d : DeclarationTree) → b ≡ false → left_declaration b d ≡ no_declarations
declaration_goes true d e = absurd (cc e)
declaration_goes false d e = refl

pub statement_stays : (b : Bool) (s : StatementTree) → b ≡ true → left_statement b s ≡ a_statement s no_statements
statement_stays true s e = refl
statement_stays false s e = absurd (cc e)

pub statement_goes : (b : Bool) (s : StatementTree) → b ≡ false → left_statement b s ≡ no_statements
statement_goes true s e = absurd (cc e)
statement_goes false s e = refl

pub branch_stays : (condition : ExpressionTree) (ss : StatementsTree) → has_statements ss ≡ true → left_branch condition ss ≡ a_branch condition ss no_branches
branch_stays condition no_statements e = absurd (cc e)
branch_stays condition (a_statement s ss) e = refl

pub branch_goes : (condition : ExpressionTree) (ss : StatementsTree) → has_statements ss ≡ false → left_branch condition ss ≡ no_branches
branch_goes condition no_statements e = refl
branch_goes condition (a_statement s ss) e = absurd (cc e)

pub handler_stays : (spot : Spot) (choices : List ChoiceTree) (ss : StatementsTree) → has_statements ss ≡ true → left_handler spot choices ss ≡ a_handler spot choices ss no_handlers
handler_stays spot choices no_statements e = absurd (cc e)
handler_stays spot choices (a_statement s ss) e = refl

pub handler_goes : (spot : Spot) (choices : List ChoiceTree) (ss : StatementsTree) → has_statements ss ≡ false → left_handler spot choices ss ≡ no_handlers
handler_goes spot choices no_statements e = refl
handler_goes spot choices (a_statement s ss) e = absurd (cc e)

-- What stays and what goes.
pub ruleset left_rules = (declaration_stays, declaration_goes, statement_stays, statement_goes, branch_stays, branch_goes, handler_stays, handler_goes)

any_more : (n : ℕ) → not (nat_eq (suc n) 0) ≡ true
any_more n = grind arith

pub any_statement_is : (xs : List Statement) → has_statements (statements_of xs) ≡ not (nat_eq (length xs) 0)
any_statement_is [] = refl
any_statement_is (x ∷ xs) = sym (any_more (length xs))

pub any_branch_is : (xs : List Branch) → has_branches (branches_of xs) ≡ not (nat_eq (length xs) 0)
any_branch_is [] = refl
any_branch_is (x ∷ xs) = sym (any_more (length xs))

pub any_declaration_is : (xs : List Declaration) → has_declarations (declarations_of xs) ≡ not (nat_eq (length xs) 0)
any_declaration_is [] = refl
any_declaration_is (x ∷ xs) = sym (any_more (length xs))

-- The statements of a sequence.
pub statements_in_is : (body : Sequence) → statements_in (sequence_of body) ≡ statements_of (out-Sequence body).statements.items
statements_in_is body = ap statements_in (body_view body)

-- Whether there are any.
pub ruleset any_rules = (any_statement_is, any_branch_is, any_declaration_is, statements_in_is)
