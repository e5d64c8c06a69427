-- What comes of statements behind others, and of branches.

use Rattle.std.proofs.Common.{◌≡◌, ◌⊎◌, inl, inr, List, [], ◌∷◌, ◌++◌, refl, ap, sym, ◌∙◌}
use Rattle.ada_program.specs.declared.program.Stmt.{Stmt}
use Rattle.ada_program.specs.declared.program.Branch.{Branch}
use Rattle.ada_program.specs.Form.{StmtForm, StmtsForm, no_stmts, a_stmt, BranchesForm, ExpressionForm, expression_form, stmt_form, stmts_form, branches_form}
use Rattle.ada_program.specs.Form as form
use Rattle.ada_resolve.specs.declared.fault.NameRule.{NameRule}
use Rattle.ada_resolve.specs.Resolution.{At, Told, broken, gives, made_into, and_then, condition_told, simple_told, statement_told, statements_told, branch_told, branches_told, Others}
use Rattle.std.proofs.Common.{ℕ, Bool, ◌+◌, ◌<◌, length, map, drop, get_or}
use Rattle.std.proofs.lemmas.List.{at_drop_more}
use Rattle.ada_text.specs.declared.spot.Spot.{Spot}
use Rattle.ada_tree.specs.Statements.{BranchTree, BranchesTree, StatementTree, StatementsTree, a_statement}
use Rattle.ada_tree.specs.Expressions.{ExpressionTree}
use Rattle.ada_tree.specs.Statements.{branches_from}
use Rattle.ada_tree.specs.Statements as tree
use Rattle.ada_tree.specs.StatementView.{assignment_view, branch_of, call_view, exit_view, null_view, raise_view, return_view, statement_of}
use Rattle.ada_tree.specs.declared.statements.Branch.{Branch as Written}
use Rattle.ada_tree.specs.declared.statements.Statement.{Statement}
use Rattle.ada_tree.specs.declared.statements.Statement.TheVariants as statement
use Rattle.ada_resolve.specs.declared.fault.NameFault.{NameFault}
use Rattle.ada_resolve.specs.declared.fault.NameFault.TheVariants.{Broken, NoMemory}
use Rattle.ada_resolve.specs.View.{branch_form, Refuses}

-- a statement with no others in it
abbrev pub IsSimple : Statement → Type 0
IsSimple s =
    ((spot : _) × (s ≡ statement.Null spot)) ⊎
    (((target : _) × (value : _) × (s ≡ statement.Assignment target value)) ⊎
    (((procedure : _) × (arguments : _) × (s ≡ statement.Call procedure arguments)) ⊎
    (((spot : _) × (condition : _) × (s ≡ statement.Exit spot condition)) ⊎
    (((spot : _) × (s ≡ statement.Return spot)) ⊎
    ((spot : _) × (name : _) × (s ≡ statement.Raise spot name))))))

-- what comes of it
pub simple_so : (inside_loop : Bool) (s : Statement) (at : At) → IsSimple s → statement_told inside_loop (statement_of s) at ≡ simple_told inside_loop (statement_of s) at
simple_so inside_loop s at (inl (spot, e)) = rw (e, null_view spot) refl
simple_so inside_loop s at (inr (inl (target, value, e))) = rw (e, assignment_view target value) refl
simple_so inside_loop s at (inr (inr (inl (procedure, arguments, e)))) = rw (e, call_view procedure arguments) refl
simple_so inside_loop s at (inr (inr (inr (inl (spot, condition, e))))) = rw (e, exit_view spot condition) refl
simple_so inside_loop s at (inr (inr (inr (inr (inl (spot, e)))))) = rw (e, return_view spot) refl
simple_so inside_loop s at (inr (inr (inr (inr (inr (spot, name, e)))))) = rw (e, raise_view spot name) refl

-- statements with others behind them
abbrev pub behind : List Stmt → StmtsForm → StmtsForm
behind [] fs = fs
behind (s ∷ ss) fs = a_stmt (stmt_form s) (behind ss fs)

-- what comes behind statements that are done
unfoldable pub after_done : List Stmt → Told (StmtsForm × At) → Told (StmtsForm × At)
after_done done told = made_into (behind done) told

-- behind none it stays
pub after_none : (told : Told (StmtsForm × At)) → after_done [] told ≡ told
unfolding after_done
after_none (broken spot rule) = refl
after_none (gives x) = refl

behind_one : (done : List Stmt) (s : Stmt) (fs : StmtsForm) → behind done (a_stmt (stmt_form s) fs) ≡ behind (done ++ s ∷ []) fs
behind_one [] s fs = refl
behind_one (d ∷ ds) s fs = ap (a_stmt (stmt_form d)) (behind_one ds s fs)

-- a first one may be done before
after_first : (done : List Stmt) (s : Stmt) (told : Told (StmtsForm × At)) → after_done done (made_into (a_stmt (stmt_form s)) told) ≡ after_done (done ++ s ∷ []) told
unfolding after_done
after_first done s (broken spot rule) = refl
after_first done s (gives x) = ap (λ (fs : StmtsForm). let t : Told (StmtsForm × At) = gives (fs, x.1) in t) (behind_one done s x.0)

-- a fault stays
pub after_fault : (done : List Stmt) (spot : Spot) (rule : NameRule) → after_done done (broken spot rule) ≡ broken spot rule
unfolding after_done
after_fault done spot rule = refl

behind_end : (done : List Stmt) → behind done no_stmts ≡ stmts_form done
behind_end [] = refl
behind_end (d ∷ ds) = ap (a_stmt (stmt_form d)) (behind_end ds)

-- where none is left, those that are done come
pub after_end : (done : List Stmt) (at : At) → after_done done (gives (no_stmts, at)) ≡ gives (stmts_form done, at)
unfolding after_done
after_end done at = ap (λ (fs : StmtsForm). let t : Told (StmtsForm × At) = gives (fs, at) in t) (behind_end done)

-- what comes behind branches that are done
abbrev pub more_branches : List Branch → BranchesForm → BranchesForm
more_branches [] rest = rest
more_branches (b ∷ bs) rest = form.a_branch (expression_form b.condition) (stmts_form b.statements.items) (more_branches bs rest)

unfoldable pub after_branches : List Branch → Told (BranchesForm × At) → Told (BranchesForm × At)
after_branches done told = made_into (more_branches done) told

pub after_no_branch : (told : Told (BranchesForm × At)) → after_branches [] told ≡ told
unfolding after_branches
after_no_branch (broken spot rule) = refl
after_no_branch (gives x) = refl

branches_after_fault : (done : List Branch) (spot : Spot) (rule : NameRule) → after_branches done (broken spot rule) ≡ broken spot rule
unfolding after_branches
branches_after_fault done spot rule = refl

one_branch_more : (done : List Branch) (b : Branch) (rest : BranchesForm) → more_branches done (form.a_branch (expression_form b.condition) (stmts_form b.statements.items) rest) ≡ more_branches (done ++ b ∷ []) rest
one_branch_more [] b rest = refl
one_branch_more (d ∷ ds) b rest = ap (form.a_branch (expression_form d.condition) (stmts_form d.statements.items)) (one_branch_more ds b rest)

after_branch : (done : List Branch) (b : Branch) (told : Told (BranchesForm × At)) →
    after_branches done (made_into (form.a_branch (expression_form b.condition) (stmts_form b.statements.items)) told) ≡ after_branches (done ++ b ∷ []) told
unfolding after_branches
after_branch done b (broken spot rule) = refl
after_branch done b (gives x) = ap (λ (bs : BranchesForm). let t : Told (BranchesForm × At) = gives (bs, x.1) in t) (one_branch_more done b x.0)

branches_end : (done : List Branch) (others : StmtsForm) → more_branches done (form.otherwise others) ≡ branches_form done others
branches_end [] others = refl
branches_end (d ∷ ds) others = ap (form.a_branch (expression_form d.condition) (stmts_form d.statements.items)) (branches_end ds others)

-- where no branch is left, the others come behind those that are done
pub after_last_branch : (done : List Branch) (told : Told (StmtsForm × At)) → after_branches done (made_into form.otherwise told) ≡ made_into (branches_form done) told
unfolding after_branches
after_last_branch done (broken spot rule) = refl
after_last_branch done (gives x) = ap (λ (bs : BranchesForm). let t : Told (BranchesForm × At) = gives (bs, x.1) in t) (branches_end done x.0)

-- a part and its tail, kept together
abbrev pub with_first : {X Y : Type 0} → X → Told (Y × At) → Told ((X × Y) × At)
with_first x told = made_into (λ y. (x, y)) told

second_then : {X Y Z : Type 0} (x : X) (t : Told (Y × At)) (f : X → Y → At → Told Z) →
    and_then t (λ done. f x done.0 done.1) ≡ and_then (with_first x t) (λ done. f done.0.0 done.0.1 done.1)
second_then x (broken spot rule) f = refl
second_then x (gives y) f = refl

-- a head and its statements come together
pub one_then : {X Y Z : Type 0} (a : Told (X × At)) (b : X × At → Told (Y × At)) (f : X → Y → At → Told Z) →
    and_then a (λ at. and_then (b at) (λ done. f at.0 done.0 done.1)) ≡ and_then (and_then a (λ at. with_first at.0 (b at))) (λ done. f done.0.0 done.0.1 done.1)
one_then (broken spot rule) b f = refl
one_then (gives x) b f = second_then x.0 (b x) f

-- branches come one by one
branches_by_one : (inside_loop : Bool) (at : At) (b : BranchTree) (bs : BranchesTree) (others : Others) →
    branches_told inside_loop (tree.a_branch b.condition b.statements bs) others at ≡
    and_then (branch_told inside_loop b at) (λ done. made_into (form.a_branch done.0.0 done.0.1) (branches_told inside_loop bs others done.1))
branches_by_one inside_loop at b bs others =
    one_then (condition_told b.condition at) (λ begun. statements_told inside_loop b.statements begun.1)
    (λ (e : ExpressionForm) (fs : StmtsForm) (behind : At). made_into (form.a_branch e fs) (branches_told inside_loop bs others behind))

-- a statement that is done goes behind those that are
pub statement_done : (inside_loop : Bool) (before after : At) (done : List Stmt) (s : Stmt) (statement : StatementTree) (statements : StatementsTree) →
    statement_told inside_loop statement before ≡ gives (stmt_form s, after) →
    after_done done (statements_told inside_loop (a_statement statement statements) before) ≡ after_done (done ++ s ∷ []) (statements_told inside_loop statements after)
statement_done inside_loop before after done s statement statements comes =
    ap (λ (t : Told (StmtForm × At)). after_done done (and_then t (λ d. made_into (a_stmt d.0) (statements_told inside_loop statements d.1)))) comes ∙
    after_first done s (statements_told inside_loop statements after)

-- so does a branch
branch_done : (inside_loop : Bool) (before after : At) (done : List Branch) (b : Branch) (e : ExpressionTree) (ss : StatementsTree) (branches : BranchesTree) (others : Others) →
    branch_told inside_loop (record { condition = e; statements = ss }) before ≡ gives ((expression_form b.condition, stmts_form b.statements.items), after) →
    after_branches done (branches_told inside_loop (tree.a_branch e ss branches) others before) ≡ after_branches (done ++ b ∷ []) (branches_told inside_loop branches others after)
branch_done inside_loop before after done b e ss branches others comes =
    ap (after_branches done) (branches_by_one inside_loop before (record { condition = e; statements = ss }) branches others) ∙
    ap (λ (t : Told ((ExpressionForm × StmtsForm) × At)). after_branches done (and_then t (λ d. made_into (form.a_branch d.0.0 d.0.1) (branches_told inside_loop branches others d.1)))) comes ∙
    after_branch done b (branches_told inside_loop branches others after)

-- a fault of a branch is that of all
branch_fails : (inside_loop : Bool) (before : At) (done : List Branch) (e : ExpressionTree) (ss : StatementsTree) (branches : BranchesTree) (others : Others) (spot : Spot) (rule : NameRule) →
    branch_told inside_loop (record { condition = e; statements = ss }) before ≡ broken spot rule →
    after_branches done (branches_told inside_loop (tree.a_branch e ss branches) others before) ≡ broken spot rule
branch_fails inside_loop before done e ss branches others spot rule fails =
    ap (after_branches done) (branches_by_one inside_loop before (record { condition = e; statements = ss }) branches others) ∙
    ap (λ (t : Told ((ExpressionForm × StmtsForm) × At)). after_branches done (and_then t (λ d. made_into (form.a_branch d.0.0 d.0.1) (branches_told inside_loop branches others d.1)))) fails ∙
    branches_after_fault done spot rule

-- what comes of the branches from one on, behind those that are done
abbrev from_here : Bool → At → List Branch → Others → List Written → Told (BranchesForm × At)
from_here inside_loop before done others branches = after_branches done (branches_told inside_loop (branches_from (map branch_of branches)) others before)

-- the branch at an index is the first from there on
at_branch : (inside_loop : Bool) (before : At) (done : List Branch) (others : Others) (branches : List Written) (i : ℕ) (x : Written) →
    i < length branches → x ≡ get_or branches i x →
    from_here inside_loop before done others (drop i branches) ≡ from_here inside_loop before done others (x ∷ drop (i + 1) branches)
at_branch inside_loop before done others branches i x in_range at =
    at_drop_more (from_here inside_loop before done others) branches i x in_range ∙
    ap (λ (y : Written). from_here inside_loop before done others (y ∷ drop (i + 1) branches)) (sym at)

-- a branch at an index that is done goes behind those that are
pub branch_step : (inside_loop : Bool) (before after : At) (done next : List Branch) (b : Branch) (others : Others) (branches : List Written) (i : ℕ) (x : Written) (all : Told (BranchesForm × At)) →
    i < length branches → x ≡ get_or branches i x →
    branch_told inside_loop (branch_of x) before ≡ gives (branch_form b, after) →
    next ≡ done ++ b ∷ [] →
    after_branches done (branches_told inside_loop (branches_from (map branch_of (drop i branches))) others before) ≡ all →
    after_branches next (branches_told inside_loop (branches_from (map branch_of (drop (i + 1) branches))) others after) ≡ all
branch_step inside_loop before after done next b others branches i x all in_range at comes pushed so_far =
    ap (λ (made : List Branch). from_here inside_loop after made others (drop (i + 1) branches)) pushed ∙
    sym (branch_done inside_loop before after done b (branch_of x).condition (branch_of x).statements (branches_from (map branch_of (drop (i + 1) branches))) others comes) ∙
    sym (at_branch inside_loop before done others branches i x in_range at) ∙
    so_far

-- the fault of a branch at an index is that of all
pub branch_refused : (inside_loop : Bool) (before : At) (done : List Branch) (others : Others) (branches : List Written) (i : ℕ) (x : Written) (all : Told (BranchesForm × At)) (fault : NameFault) →
    i < length branches → x ≡ get_or branches i x →
    Refuses fault (branch_told inside_loop (branch_of x) before) →
    after_branches done (branches_told inside_loop (branches_from (map branch_of (drop i branches))) others before) ≡ all →
    Refuses fault all
branch_refused inside_loop before done others branches i x all (Broken spot rule) in_range at fails so_far =
    sym so_far ∙ at_branch inside_loop before done others branches i x in_range at ∙
    branch_fails inside_loop before done (branch_of x).condition (branch_of x).statements (branches_from (map branch_of (drop (i + 1) branches))) others spot rule fails
branch_refused inside_loop before done others branches i x all NoMemory in_range at fails so_far = tt
