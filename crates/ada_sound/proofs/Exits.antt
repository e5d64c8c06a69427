-- No exit of a well-formed body leads out of the body: each stands inside a loop (5.7).

use Rattle.std.proofs.Common.{◌≡◌, Bool, true, false, ◌&&◌, ◌||◌, List, refl}
use Rattle.std.proofs.lemmas.Bool.{and_parts}
use Rattle.ada_program.specs.Form.{StmtForm, skips, assigns, assigns_record, frees, gets, writes, writes_text, chooses, repeats, counts, exits, calls, returns, raises, encloses, StmtsForm, no_stmts, a_stmt, BranchesForm, otherwise, a_branch, HandlersForm, no_handlers, a_handler}
use Rattle.ada_program.specs.ProgramForm.{TypeForm, VariableForm}
use Rattle.std.specs.Prelude.{ℕ}
use Rattle.std.specs.List.{list_all}
use Rattle.ada_program.specs.WellFormed.{Profile, has_type, has_statement, choice_fits, declarations_fit, statement_fits, stmts_fit, branches_fit, handlers_fit}
use Rattle.ada_program.specs.declared.program.ScalarType.TheVariants.{Boolean}
use Rattle.ada_flow.specs.Flow.{has_exit, have_exit, branches_have_exit, handlers_have_exit}

-- Where two are false, neither is true.
neither : (a b : Bool) → a ≡ false → b ≡ false → (a || b) ≡ false
neither a b e f = rw (e, f) refl

module _ (types : List TypeForm) (variables : List VariableForm) (texts exceptions : List (List ℕ)) (callable : List Profile) where
  mutual
    no_exit : (f : StmtForm) → statement_fits types variables texts exceptions callable false f ≡ true → has_exit f ≡ false
    no_exit skips fits = refl
    no_exit (assigns target right) fits = refl
    no_exit (assigns_record target items) fits = refl
    no_exit (frees access path) fits = refl
    no_exit (gets target) fits = refl
    no_exit (writes e) fits = refl
    no_exit (writes_text text) fits = refl
    no_exit (chooses branches) fits = no_exit_branches branches fits
    no_exit (repeats condition fs end_spot) fits = refl
    no_exit (counts x low high fs end_spot) fits = refl
    no_exit (exits condition spot) fits = absurd (cc fits)
    no_exit (calls procedure actuals) fits = refl
    no_exit (returns spot) fits = refl
    no_exit (raises e) fits = refl
    no_exit (encloses ds fs hs) fits =
        let outer = and_parts (declarations_fit types variables ds && stmts_fit types variables texts exceptions callable false fs) (handlers_fit types variables texts exceptions callable false hs) fits in
        let inner = and_parts (declarations_fit types variables ds) (stmts_fit types variables texts exceptions callable false fs) outer.0 in
        neither (have_exit fs) (handlers_have_exit hs) (no_exits fs inner.1) (no_exit_handlers hs outer.1)

    pub no_exits : (fs : StmtsForm) → stmts_fit types variables texts exceptions callable false fs ≡ true → have_exit fs ≡ false
    no_exits no_stmts fits = refl
    no_exits (a_stmt f fs) fits =
        let parts = and_parts (statement_fits types variables texts exceptions callable false f) (stmts_fit types variables texts exceptions callable false fs) fits in
        neither (has_exit f) (have_exit fs) (no_exit f parts.0) (no_exits fs parts.1)

    no_exit_branches : (branches : BranchesForm) → branches_fit types variables texts exceptions callable false branches ≡ true → branches_have_exit branches ≡ false
    no_exit_branches (otherwise fs) fits = no_exits fs fits
    no_exit_branches (a_branch e fs branches) fits =
        let outer = and_parts (has_type types variables Boolean e && stmts_fit types variables texts exceptions callable false fs) (branches_fit types variables texts exceptions callable false branches) fits in
        let inner = and_parts (has_type types variables Boolean e) (stmts_fit types variables texts exceptions callable false fs) outer.0 in
        neither (have_exit fs) (branches_have_exit branches) (no_exits fs inner.1) (no_exit_branches branches outer.1)

    pub no_exit_handlers : (hs : HandlersForm) → handlers_fit types variables texts exceptions callable false hs ≡ true → handlers_have_exit hs ≡ false
    no_exit_handlers no_handlers fits = refl
    no_exit_handlers (a_handler choices fs hs) fits =
        let outer = and_parts (list_all (choice_fits exceptions) choices && has_statement fs && stmts_fit types variables texts exceptions callable false fs) (handlers_fit types variables texts exceptions callable false hs) fits in
        let inner = and_parts (list_all (choice_fits exceptions) choices && has_statement fs) (stmts_fit types variables texts exceptions callable false fs) outer.0 in
        neither (have_exit fs) (handlers_have_exit hs) (no_exits fs inner.1) (no_exit_handlers hs outer.1)
