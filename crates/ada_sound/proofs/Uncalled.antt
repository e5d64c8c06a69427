-- What may be raised where nothing is called may be raised whatever calls do.

use Rattle.std.proofs.Common.{◌≡◌, ℕ, Bool, true, false, ◌&&◌, ◌||◌, List, [], ◌∷◌}
use Rattle.std.specs.Prelude.{Option, Some, None}
use Rattle.std.specs.List.{slice_get}
use Rattle.ada_program.specs.declared.program.Exception.{Exception}
use Rattle.ada_program.specs.declared.program.Exception.TheVariants.{ConstraintError}
use Rattle.ada_program.specs.Form.{ItemForm, RightForm, nothing, value_of, allocates, allocates_default, computes, DeclarationForm, creates_pool, collects, declares, declares_record, StmtForm, skips, assigns, assigns_record, frees, gets, writes, writes_text, chooses, repeats, counts, exits, calls, returns, raises, encloses, StmtsForm, no_stmts, a_stmt, BranchesForm, otherwise, a_branch, HandlersForm, no_handlers, a_handler}
use Rattle.ada_program.specs.ProgramForm.{BodyForm}
use Rattle.ada_effects.specs.Effects.{Effects, no_calls, no_implicit, call_raises, actuals_raise, expression_raises, condition_raises, path_raises, initial_raises, untaken, right_raises, right_starts, initial_starts, declaration_raises, declarations_raise, stmt_raises, stmts_raise, branches_raise, handlers_raise, body_raises}
use Rattle.ada_sound.proofs.Raising.{or_map}

module _ (effects : Effects) where
  -- Where nothing is called, nothing comes out of the initialization of an object.
  right_called : (among : Exception → Bool) (right : RightForm) → right_starts no_implicit among right ≡ true → right_starts effects.implicit among right ≡ true
  right_called among nothing is = absurd (cc is)
  right_called among (value_of path) is = absurd (cc is)
  right_called among (allocates access items) is = absurd (cc is)
  right_called among (allocates_default access) is = absurd (cc is)
  right_called among (computes e) is = absurd (cc is)

  initial_called : (among : Exception → Bool) (object : ℕ) (initial : Option (List ItemForm)) → initial_starts no_implicit among object initial ≡ true → initial_starts effects.implicit among object initial ≡ true
  initial_called among object None is = absurd (cc is)
  initial_called among object (Some items) is = absurd (cc is)

  declaration_called : (among : Exception → Bool) (d : DeclarationForm) → declaration_raises no_implicit among d ≡ true → declaration_raises effects.implicit among d ≡ true
  declaration_called among (creates_pool pool) is = is
  declaration_called among (collects access) is = is
  declaration_called among (declares x right) is =
      or_map (right_raises among right) (right_starts no_implicit among right) (right_raises among right) (right_starts effects.implicit among right) (λ i. i) (right_called among right) is
  declaration_called among (declares_record x t initial) is =
      or_map (among ConstraintError && initial_raises initial) (initial_starts no_implicit among t initial) (among ConstraintError && initial_raises initial) (initial_starts effects.implicit among t initial)
      (λ i. i) (initial_called among t initial) is

  declarations_called : (among : Exception → Bool) (ds : List DeclarationForm) → declarations_raise no_implicit among ds ≡ true → declarations_raise effects.implicit among ds ≡ true
  declarations_called among [] is = is
  declarations_called among (d ∷ ds) is =
      or_map (declaration_raises no_implicit among d) (declarations_raise no_implicit among ds) (declaration_raises effects.implicit among d) (declarations_raise effects.implicit among ds)
      (declaration_called among d) (declarations_called among ds) is

  mutual
    stmt_called : (f : StmtForm) (among : Exception → Bool) → stmt_raises no_calls among f ≡ true → stmt_raises effects among f ≡ true
    stmt_called skips among is = is
    stmt_called (assigns target right) among is =
        let before = (among ConstraintError && path_raises target) || right_raises among right in
        or_map before (right_starts no_implicit among right) before (right_starts effects.implicit among right) (λ i. i) (right_called among right) is
    stmt_called (assigns_record target items) among is = is
    stmt_called (frees access path) among is = is
    stmt_called (gets target) among is = is
    stmt_called (writes e) among is = is
    stmt_called (writes_text text) among is = is
    stmt_called (chooses branches) among is = branches_called branches among is
    stmt_called (repeats condition fs spot) among is =
        let before = among ConstraintError && condition_raises condition in
        or_map before (stmts_raise no_calls among fs) before (stmts_raise effects among fs) (λ i. i) (stmts_called fs among) is
    stmt_called (counts x low high fs spot) among is =
        let before = among ConstraintError && (expression_raises low || expression_raises high) in
        or_map before (stmts_raise no_calls among fs) before (stmts_raise effects among fs) (λ i. i) (stmts_called fs among) is
    stmt_called (exits condition spot) among is = is
    stmt_called (calls procedure actuals) among is =
        let before = among ConstraintError && actuals_raise actuals in
        let none : false ≡ true → call_raises (slice_get effects.calls procedure) among ≡ true = λ i. absurd (cc i) in
        or_map before false before (call_raises (slice_get effects.calls procedure) among) (λ i. i) none is
    stmt_called (returns spot) among is = is
    stmt_called (raises e) among is = is
    stmt_called (encloses ds fs hs) among is =
        or_map (declarations_raise no_implicit among ds || stmts_raise no_calls (untaken hs among) fs) (handlers_raise no_calls among hs)
        (declarations_raise effects.implicit among ds || stmts_raise effects (untaken hs among) fs) (handlers_raise effects among hs)
        (λ i. or_map (declarations_raise no_implicit among ds) (stmts_raise no_calls (untaken hs among) fs) (declarations_raise effects.implicit among ds) (stmts_raise effects (untaken hs among) fs)
        (declarations_called among ds) (stmts_called fs (untaken hs among)) i)
        (handlers_called hs among) is

    stmts_called : (fs : StmtsForm) (among : Exception → Bool) → stmts_raise no_calls among fs ≡ true → stmts_raise effects among fs ≡ true
    stmts_called no_stmts among is = is
    stmts_called (a_stmt f fs) among is =
        or_map (stmt_raises no_calls among f) (stmts_raise no_calls among fs) (stmt_raises effects among f) (stmts_raise effects among fs) (stmt_called f among) (stmts_called fs among) is

    branches_called : (branches : BranchesForm) (among : Exception → Bool) → branches_raise no_calls among branches ≡ true → branches_raise effects among branches ≡ true
    branches_called (otherwise fs) among is = stmts_called fs among is
    branches_called (a_branch e fs branches) among is =
        let before = among ConstraintError && expression_raises e in
        or_map (before || stmts_raise no_calls among fs) (branches_raise no_calls among branches) (before || stmts_raise effects among fs) (branches_raise effects among branches)
        (λ i. or_map before (stmts_raise no_calls among fs) before (stmts_raise effects among fs) (λ j. j) (stmts_called fs among) i) (branches_called branches among) is

    handlers_called : (hs : HandlersForm) (among : Exception → Bool) → handlers_raise no_calls among hs ≡ true → handlers_raise effects among hs ≡ true
    handlers_called no_handlers among is = is
    handlers_called (a_handler choices fs hs) among is =
        or_map (stmts_raise no_calls among fs) (handlers_raise no_calls among hs) (stmts_raise effects among fs) (handlers_raise effects among hs) (stmts_called fs among) (handlers_called hs among) is

  -- Of a body.
  pub body_called : (b : BodyForm) (among : Exception → Bool) → body_raises no_calls b among ≡ true → body_raises effects b among ≡ true
  body_called b among is =
      or_map (declarations_raise no_implicit among b.declarations || stmts_raise no_calls (untaken b.handlers among) b.statements) (handlers_raise no_calls among b.handlers)
      (declarations_raise effects.implicit among b.declarations || stmts_raise effects (untaken b.handlers among) b.statements) (handlers_raise effects among b.handlers)
      (λ i. or_map (declarations_raise no_implicit among b.declarations) (stmts_raise no_calls (untaken b.handlers among) b.statements)
      (declarations_raise effects.implicit among b.declarations) (stmts_raise effects (untaken b.handlers among) b.statements)
      (declarations_called among b.declarations) (stmts_called b.statements (untaken b.handlers among)) i)
      (handlers_called b.handlers among) is
