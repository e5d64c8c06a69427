-- Which access types the calls of Unchecked_Deallocation of a program are for (13.11.2): each is for the very type of what it frees.

use Rattle.std.specs.Prelude.{◌≡◌, Bool, true, ◌&&◌, List}
use Rattle.std.specs.List.{list_all}
use Rattle.ada_program.specs.Form.{StmtForm, skips, assigns, assigns_record, frees, gets, writes, writes_text, chooses, repeats, counts, exits, calls, returns, raises, encloses, StmtsForm, no_stmts, a_stmt, BranchesForm, otherwise, a_branch, HandlersForm, no_handlers, a_handler}
use Rattle.ada_program.specs.ProgramForm.{TypeForm, VariableForm, BodyForm, ProgramForm}
use Rattle.ada_program.specs.WellFormed.{path_access, is_this}

abbrev mutual
  -- A statement frees by the instance for the access type of what it frees, wherever it frees something.
  pub statement_frees_own : List TypeForm → List VariableForm → StmtForm → Bool
  statement_frees_own types variables skips = true
  statement_frees_own types variables (assigns target right) = true
  statement_frees_own types variables (assigns_record target items) = true
  statement_frees_own types variables (frees access path) = is_this access (path_access types variables path)
  statement_frees_own types variables (gets target) = true
  statement_frees_own types variables (writes e) = true
  statement_frees_own types variables (writes_text text) = true
  statement_frees_own types variables (chooses branches) = branches_free_own types variables branches
  statement_frees_own types variables (repeats condition fs end_spot) = statements_free_own types variables fs
  statement_frees_own types variables (counts x low high fs end_spot) = statements_free_own types variables fs
  statement_frees_own types variables (exits condition spot) = true
  statement_frees_own types variables (calls procedure actuals) = true
  statement_frees_own types variables (returns spot) = true
  statement_frees_own types variables (raises e) = true
  statement_frees_own types variables (encloses ds fs hs) = statements_free_own types variables fs && handlers_free_own types variables hs

  -- So does each of some statements.
  pub statements_free_own : List TypeForm → List VariableForm → StmtsForm → Bool
  statements_free_own types variables no_stmts = true
  statements_free_own types variables (a_stmt f fs) = statement_frees_own types variables f && statements_free_own types variables fs

  -- So does each statement of branches.
  pub branches_free_own : List TypeForm → List VariableForm → BranchesForm → Bool
  branches_free_own types variables (otherwise fs) = statements_free_own types variables fs
  branches_free_own types variables (a_branch e fs branches) = statements_free_own types variables fs && branches_free_own types variables branches

  -- So does each statement of handlers.
  pub handlers_free_own : List TypeForm → List VariableForm → HandlersForm → Bool
  handlers_free_own types variables no_handlers = true
  handlers_free_own types variables (a_handler choices fs hs) = statements_free_own types variables fs && handlers_free_own types variables hs

-- So does each statement of a body, and of its handlers.
abbrev pub body_frees_own : List TypeForm → BodyForm → Bool
body_frees_own types b = statements_free_own types b.variables b.statements && handlers_free_own types b.variables b.handlers

-- Each Free of a program is by the instance for the access type of what it frees (13.11.2). A well-formed program may have an instance for another
-- access type to the same record; no source says so.
pub record FreesItsOwn (p : ProgramForm) : Type 0 where
  pub statements : statements_free_own p.types p.variables p.statements ≡ true
  pub handlers : handlers_free_own p.types p.variables p.handlers ≡ true
  pub bodies : list_all (body_frees_own p.types) p.bodies ≡ true
