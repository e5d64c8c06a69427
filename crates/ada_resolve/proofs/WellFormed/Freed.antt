-- Statements that free by the instance for the very type of what they free go on doing so as types and variables are added.

use Rattle.std.proofs.Common.{◌≡◌, true, List, refl}
use Rattle.ada_program.specs.Form.{StmtForm, skips, assigns, assigns_record, frees, gets, writes, writes_text, chooses, repeats, counts, exits, calls, returns, raises, encloses, StmtsForm, no_stmts, a_stmt, BranchesForm, otherwise, a_branch, HandlersForm, no_handlers, a_handler}
use Rattle.ada_program.specs.Freed.{statement_frees_own, statements_free_own, branches_free_own, handlers_free_own, body_frees_own}
use Rattle.ada_program.specs.ProgramForm.{TypeForm, VariableForm, BodyForm}
use Rattle.ada_resolve.proofs.WellFormed.Forms.{AreIn, forms}
use Rattle.ada_resolve.proofs.WellFormed.Growing.{moved_stays}
use Rattle.ada_resolve.proofs.WellFormed.Tables.{both_parts, first_part, second_part}

module _ (types more : List TypeForm) (variables others : List VariableForm) (ts : AreIn (forms types) (forms more)) (vs : AreIn variables others) where
  mutual
    pub statement_frees : (f : StmtForm) → statement_frees_own types variables f ≡ true → statement_frees_own more others f ≡ true
    statement_frees skips h = refl
    statement_frees (assigns target right) h = refl
    statement_frees (assigns_record target items) h = refl
    statement_frees (frees access path) h = moved_stays types more variables others ts vs path access h
    statement_frees (gets target) h = refl
    statement_frees (writes e) h = refl
    statement_frees (writes_text text) h = refl
    statement_frees (chooses branches) h = branches_free branches h
    statement_frees (repeats condition fs end_spot) h = statements_free fs h
    statement_frees (counts x low high fs end_spot) h = statements_free fs h
    statement_frees (exits condition spot) h = refl
    statement_frees (calls procedure actuals) h = refl
    statement_frees (returns spot) h = refl
    statement_frees (raises e) h = refl
    statement_frees (encloses ds fs hs) h =
        let own = statements_free_own types variables fs in
        let handled = handlers_free_own types variables hs in
        both_parts (statements_free_own more others fs) (handlers_free_own more others hs) (statements_free fs (first_part own handled h)) (handlers_free hs (second_part own handled h))

    pub statements_free : (fs : StmtsForm) → statements_free_own types variables fs ≡ true → statements_free_own more others fs ≡ true
    statements_free no_stmts h = refl
    statements_free (a_stmt f fs) h =
        let one = statement_frees_own types variables f in
        let rest = statements_free_own types variables fs in
        both_parts (statement_frees_own more others f) (statements_free_own more others fs) (statement_frees f (first_part one rest h)) (statements_free fs (second_part one rest h))

    branches_free : (bs : BranchesForm) → branches_free_own types variables bs ≡ true → branches_free_own more others bs ≡ true
    branches_free (otherwise fs) h = statements_free fs h
    branches_free (a_branch e fs bs) h =
        let own = statements_free_own types variables fs in
        let rest = branches_free_own types variables bs in
        both_parts (statements_free_own more others fs) (branches_free_own more others bs) (statements_free fs (first_part own rest h)) (branches_free bs (second_part own rest h))

    pub handlers_free : (hs : HandlersForm) → handlers_free_own types variables hs ≡ true → handlers_free_own more others hs ≡ true
    handlers_free no_handlers h = refl
    handlers_free (a_handler choices fs hs) h =
        let own = statements_free_own types variables fs in
        let rest = handlers_free_own types variables hs in
        both_parts (statements_free_own more others fs) (handlers_free_own more others hs) (statements_free fs (first_part own rest h)) (handlers_free hs (second_part own rest h))

-- so do the bodies of procedures, as types are added
pub body_frees : (types more : List TypeForm) → AreIn (forms types) (forms more) → (b : BodyForm) → body_frees_own types b ≡ true → body_frees_own more b ≡ true
body_frees types more ts b h =
    let own = statements_free_own types b.variables b.statements in
    let handled = handlers_free_own types b.variables b.handlers in
    both_parts (statements_free_own more b.variables b.statements) (handlers_free_own more b.variables b.handlers)
    (statements_free types more b.variables b.variables ts (λ i x is. is) b.statements (first_part own handled h))
    (handlers_free types more b.variables b.variables ts (λ i x is. is) b.handlers (second_part own handled h))
