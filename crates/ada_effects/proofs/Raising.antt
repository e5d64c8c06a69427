-- How what statements raise depends on the exceptions that are asked for.

use Rattle.std.proofs.Common.{◌≡◌, ℕ, Bool, true, false, ◌||◌, ◌&&◌, not, List, [], ◌∷◌, Option, Some, None, ap, sym, subst}
use Rattle.std.proofs.lemmas.Bool.{and_parts, and_from, false_from_ne_true, both_ways}
use Rattle.std.specs.List.{slice_get}
use Rattle.ada_effects.specs.declared.implicit.Effects.{Effects as HeldEffects}
use Rattle.ada_effects.specs.Effects.{Implicit, Effects, untaken, passes, call_raises, path_raises, record_path_raises, expression_raises, actuals_raise, items_raise, initial_raises, condition_raises, right_raises, right_starts, initial_starts, declaration_raises, declarations_raise, stmt_raises, stmts_raise, branches_raise, handlers_raise}
use Rattle.ada_effects.specs.Found.{effects_in, left_of}
use Rattle.ada_effects.specs.Taken.{with_handlers, have_others}
use Rattle.ada_program.specs.declared.program.Exception.{Exception}
use Rattle.ada_program.specs.declared.program.Exception.TheVariants.{ConstraintError, StorageError, EndError}
use Rattle.ada_program.specs.Form.{ItemForm, RightForm, nothing, value_of, allocates, allocates_default, computes, DeclarationForm, creates_pool, collects, declares, declares_record, StmtForm, skips, assigns, assigns_record, frees, gets, writes, writes_text, chooses, repeats, counts, exits, calls, returns, raises, encloses, StmtsForm, no_stmts, a_stmt, BranchesForm, otherwise, a_branch, HandlersForm, no_handlers, a_handler}
use Rattle.ada_program.specs.Handling.{is_same, is_taken}
use Rattle.ada_effects.proofs.Calls.{Within, One, AllEach, either, one_of, itself, call_stays, call_has_one, some_stays, some_has_one, held_each}
use Rattle.ada_effects.proofs.Sameness.{are_equal}
use Rattle.ada_effects.proofs.Sets.{nothing_left, left_of_handled, left_of_none}

pub within_untaken : (hs : HandlersForm) (p q : Exception → Bool) → Within p q → Within (untaken hs p) (untaken hs q)
within_untaken hs p q w e h =
    let parts = and_parts (p e) (not (is_taken hs e)) h in
    and_from (q e) (not (is_taken hs e)) (w e parts.0) parts.1

checked : (p q : Exception → Bool) → Within p q → (b : Bool) → (p ConstraintError && b) ≡ true → (q ConstraintError && b) ≡ true
checked p q w b h =
    let parts = and_parts (p ConstraintError) b h in
    and_from (q ConstraintError) b (w ConstraintError parts.0) parts.1

right_stays : (p q : Exception → Bool) → Within p q → (right : RightForm) → right_raises p right ≡ true → right_raises q right ≡ true
right_stays p q w nothing h = cc
right_stays p q w (value_of path) h = checked p q w (path_raises path) h
right_stays p q w (allocates access items) h =
    either (p StorageError) (p ConstraintError && items_raise items) (q StorageError) (q ConstraintError && items_raise items)
    (w StorageError) (checked p q w (items_raise items)) h
right_stays p q w (allocates_default access) h = w StorageError h
right_stays p q w (computes e) h = checked p q w (expression_raises e) h

-- An initialization may raise what is in a list.
starts_stay : (i : Implicit) (p q : Exception → Bool) → Within p q → (right : RightForm) → right_starts i p right ≡ true → right_starts i q right ≡ true
starts_stay i p q w nothing h = cc
starts_stay i p q w (value_of path) h = cc
starts_stay i p q w (allocates access items) h = some_stays (i.start_raises access) p q w h
starts_stay i p q w (allocates_default access) h = some_stays (i.start_raises access) p q w h
starts_stay i p q w (computes e) h = cc

initials_stay : (i : Implicit) (p q : Exception → Bool) → Within p q → (object : ℕ) (initial : Option (List ItemForm)) →
    initial_starts i p object initial ≡ true → initial_starts i q object initial ≡ true
initials_stay i p q w object None h = some_stays (i.start_raises object) p q w h
initials_stay i p q w object (Some items) h = cc

declaration_stays : (i : Implicit) (p q : Exception → Bool) → Within p q → (d : DeclarationForm) → declaration_raises i p d ≡ true → declaration_raises i q d ≡ true
declaration_stays i p q w (creates_pool pool) h = cc
declaration_stays i p q w (collects access) h = cc
declaration_stays i p q w (declares x right) h =
    either (right_raises p right) (right_starts i p right) (right_raises q right) (right_starts i q right)
    (right_stays p q w right) (starts_stay i p q w right) h
declaration_stays i p q w (declares_record x object initial) h =
    let raises = initial_raises initial in
    either (p ConstraintError && raises) (initial_starts i p object initial) (q ConstraintError && raises) (initial_starts i q object initial)
    (checked p q w raises) (initials_stay i p q w object initial) h

pub declarations_stay : (i : Implicit) (p q : Exception → Bool) → Within p q → (ds : List DeclarationForm) →
    declarations_raise i p ds ≡ true → declarations_raise i q ds ≡ true
declarations_stay i p q w [] h = cc
declarations_stay i p q w (d ∷ ds) h =
    either (declaration_raises i p d) (declarations_raise i p ds) (declaration_raises i q d) (declarations_raise i q ds)
    (declaration_stays i p q w d) (declarations_stay i p q w ds) h

mutual
  stmt_stays : (es : Effects) → AllEach es.calls → (f : StmtForm) (p q : Exception → Bool) → Within p q → stmt_raises es p f ≡ true → stmt_raises es q f ≡ true
  stmt_stays es k skips p q w h = cc
  stmt_stays es k (assigns target right) p q w h =
      let follows = path_raises target in
      let i = es.implicit in
      either ((p ConstraintError && follows) || right_raises p right) (right_starts i p right) ((q ConstraintError && follows) || right_raises q right) (right_starts i q right)
      (either (p ConstraintError && follows) (right_raises p right) (q ConstraintError && follows) (right_raises q right)
      (checked p q w follows) (right_stays p q w right))
      (starts_stay i p q w right) h
  stmt_stays es k (assigns_record target items) p q w h = checked p q w (record_path_raises target || items_raise items) h
  stmt_stays es k (frees access path) p q w h = checked p q w (path_raises path) h
  stmt_stays es k (gets target) p q w h =
      let follows = path_raises target in
      either (p EndError) (p ConstraintError && follows) (q EndError) (q ConstraintError && follows) (w EndError) (checked p q w follows) h
  stmt_stays es k (writes e) p q w h = checked p q w (expression_raises e) h
  stmt_stays es k (writes_text text) p q w h = cc
  stmt_stays es k (chooses branches) p q w h = branches_stay es k branches p q w h
  stmt_stays es k (repeats condition fs end_spot) p q w h =
      either (p ConstraintError && condition_raises condition) (stmts_raise es p fs) (q ConstraintError && condition_raises condition) (stmts_raise es q fs)
      (checked p q w (condition_raises condition)) (stmts_stay es k fs p q w) h
  stmt_stays es k (counts x low high fs end_spot) p q w h =
      let bounds = expression_raises low || expression_raises high in
      either (p ConstraintError && bounds) (stmts_raise es p fs) (q ConstraintError && bounds) (stmts_raise es q fs) (checked p q w bounds) (stmts_stay es k fs p q w) h
  stmt_stays es k (exits condition spot) p q w h = checked p q w (condition_raises condition) h
  stmt_stays es k (calls procedure actuals) p q w h =
      either (p ConstraintError && actuals_raise actuals) (call_raises (slice_get es.calls procedure) p) (q ConstraintError && actuals_raise actuals) (call_raises (slice_get es.calls procedure) q)
      (checked p q w (actuals_raise actuals)) (call_stays es.calls k procedure p q w) h
  stmt_stays es k (returns spot) p q w h = cc
  stmt_stays es k (raises e) p q w h = w e h
  stmt_stays es k (encloses ds fs hs) p q w h =
      either (declarations_raise es.implicit p ds || stmts_raise es (untaken hs p) fs) (handlers_raise es p hs) (declarations_raise es.implicit q ds || stmts_raise es (untaken hs q) fs) (handlers_raise es q hs)
      (either (declarations_raise es.implicit p ds) (stmts_raise es (untaken hs p) fs) (declarations_raise es.implicit q ds) (stmts_raise es (untaken hs q) fs)
      (declarations_stay es.implicit p q w ds) (stmts_stay es k fs (untaken hs p) (untaken hs q) (within_untaken hs p q w)))
      (handlers_stay es k hs p q w) h

  pub stmts_stay : (es : Effects) → AllEach es.calls → (fs : StmtsForm) (p q : Exception → Bool) → Within p q → stmts_raise es p fs ≡ true → stmts_raise es q fs ≡ true
  stmts_stay es k no_stmts p q w h = cc
  stmts_stay es k (a_stmt f fs) p q w h =
      either (stmt_raises es p f) (stmts_raise es p fs) (stmt_raises es q f) (stmts_raise es q fs) (stmt_stays es k f p q w) (stmts_stay es k fs p q w) h

  branches_stay : (es : Effects) → AllEach es.calls → (bs : BranchesForm) (p q : Exception → Bool) → Within p q → branches_raise es p bs ≡ true → branches_raise es q bs ≡ true
  branches_stay es k (otherwise fs) p q w h = stmts_stay es k fs p q w h
  branches_stay es k (a_branch e fs bs) p q w h =
      either ((p ConstraintError && expression_raises e) || stmts_raise es p fs) (branches_raise es p bs) ((q ConstraintError && expression_raises e) || stmts_raise es q fs) (branches_raise es q bs)
      (either (p ConstraintError && expression_raises e) (stmts_raise es p fs) (q ConstraintError && expression_raises e) (stmts_raise es q fs)
      (checked p q w (expression_raises e)) (stmts_stay es k fs p q w))
      (branches_stay es k bs p q w) h

  pub handlers_stay : (es : Effects) → AllEach es.calls → (hs : HandlersForm) (p q : Exception → Bool) → Within p q → handlers_raise es p hs ≡ true → handlers_raise es q hs ≡ true
  handlers_stay es k no_handlers p q w h = cc
  handlers_stay es k (a_handler cs fs hs) p q w h =
      either (stmts_raise es p fs) (handlers_raise es p hs) (stmts_raise es q fs) (handlers_raise es q hs) (stmts_stay es k fs p q w) (handlers_stay es k hs p q w) h

one_checked : (p : Exception → Bool) (b : Bool) → (p ConstraintError && b) ≡ true → One p (λ r. r ConstraintError && b)
one_checked p b h = let parts = and_parts (p ConstraintError) b h in (ConstraintError, parts.0, parts.1)

right_has_one : (p : Exception → Bool) (right : RightForm) → right_raises p right ≡ true → One p (λ r. right_raises r right)
right_has_one p nothing h = cc
right_has_one p (value_of path) h = one_checked p (path_raises path) h
right_has_one p (allocates access items) h =
    one_of p (λ r. r StorageError) (λ r. r ConstraintError && items_raise items) (itself p StorageError) (one_checked p (items_raise items)) h
right_has_one p (allocates_default access) h = itself p StorageError h
right_has_one p (computes e) h = one_checked p (expression_raises e) h

start_has_one : (i : Implicit) (p : Exception → Bool) (right : RightForm) → right_starts i p right ≡ true → One p (λ r. right_starts i r right)
start_has_one i p nothing h = cc
start_has_one i p (value_of path) h = cc
start_has_one i p (allocates access items) h = some_has_one (i.start_raises access) p h
start_has_one i p (allocates_default access) h = some_has_one (i.start_raises access) p h
start_has_one i p (computes e) h = cc

initial_has_one : (i : Implicit) (p : Exception → Bool) (object : ℕ) (initial : Option (List ItemForm)) →
    initial_starts i p object initial ≡ true → One p (λ r. initial_starts i r object initial)
initial_has_one i p object None h = some_has_one (i.start_raises object) p h
initial_has_one i p object (Some items) h = cc

declaration_has_one : (i : Implicit) (p : Exception → Bool) (d : DeclarationForm) → declaration_raises i p d ≡ true → One p (λ r. declaration_raises i r d)
declaration_has_one i p (creates_pool pool) h = cc
declaration_has_one i p (collects access) h = cc
declaration_has_one i p (declares x right) h =
    one_of p (λ r. right_raises r right) (λ r. right_starts i r right) (right_has_one p right) (start_has_one i p right) h
declaration_has_one i p (declares_record x object initial) h =
    one_of p (λ r. r ConstraintError && initial_raises initial) (λ r. initial_starts i r object initial)
    (one_checked p (initial_raises initial)) (initial_has_one i p object initial) h

pub declarations_have_one : (i : Implicit) (p : Exception → Bool) (ds : List DeclarationForm) →
    declarations_raise i p ds ≡ true → One p (λ r. declarations_raise i r ds)
declarations_have_one i p [] h = cc
declarations_have_one i p (d ∷ ds) h =
    one_of p (λ r. declaration_raises i r d) (λ r. declarations_raise i r ds) (declaration_has_one i p d) (declarations_have_one i p ds) h

-- The one that the handlers of a block leave is one that leaves the block.
pub one_untaken : (es : Effects) → AllEach es.calls → (p : Exception → Bool) (hs : HandlersForm) (fs : StmtsForm) → One (untaken hs p) (λ r. stmts_raise es r fs) → One p (λ r. stmts_raise es (untaken hs r) fs)
one_untaken es k p hs fs one =
    let parts = and_parts (p one.0) (not (is_taken hs one.0)) one.1 in
    let P : Exception → Type 0 = λ x. not (is_taken hs x) ≡ true in (
      one.0,
      parts.0,
      stmts_stay es k fs (is_same one.0) (untaken hs (is_same one.0))
          (λ x same. and_from (is_same one.0 x) (not (is_taken hs x)) same (subst P (are_equal one.0 x same) parts.1)) one.2,
    )

mutual
  stmt_has_one : (es : Effects) → AllEach es.calls → (f : StmtForm) (p : Exception → Bool) → stmt_raises es p f ≡ true → One p (λ r. stmt_raises es r f)
  stmt_has_one es k skips p h = cc
  stmt_has_one es k (assigns target right) p h =
      one_of p (λ r. (r ConstraintError && path_raises target) || right_raises r right) (λ r. right_starts es.implicit r right)
      (one_of p (λ r. r ConstraintError && path_raises target) (λ r. right_raises r right)
      (one_checked p (path_raises target)) (right_has_one p right))
      (start_has_one es.implicit p right) h
  stmt_has_one es k (assigns_record target items) p h = one_checked p (record_path_raises target || items_raise items) h
  stmt_has_one es k (frees access path) p h = one_checked p (path_raises path) h
  stmt_has_one es k (gets target) p h =
      one_of p (λ r. r EndError) (λ r. r ConstraintError && path_raises target)
      (itself p EndError) (one_checked p (path_raises target)) h
  stmt_has_one es k (writes e) p h = one_checked p (expression_raises e) h
  stmt_has_one es k (writes_text text) p h = cc
  stmt_has_one es k (chooses branches) p h = branches_have_one es k branches p h
  stmt_has_one es k (repeats condition fs end_spot) p h =
      one_of p (λ r. r ConstraintError && condition_raises condition) (λ r. stmts_raise es r fs) (one_checked p (condition_raises condition)) (stmts_have_one es k fs p) h
  stmt_has_one es k (counts x low high fs end_spot) p h =
      one_of p (λ r. r ConstraintError && (expression_raises low || expression_raises high)) (λ r. stmts_raise es r fs)
      (one_checked p (expression_raises low || expression_raises high)) (stmts_have_one es k fs p) h
  stmt_has_one es k (exits condition spot) p h = one_checked p (condition_raises condition) h
  stmt_has_one es k (calls procedure actuals) p h =
      one_of p (λ r. r ConstraintError && actuals_raise actuals) (λ r. call_raises (slice_get es.calls procedure) r)
      (one_checked p (actuals_raise actuals)) (call_has_one es.calls k procedure p) h
  stmt_has_one es k (returns spot) p h = cc
  stmt_has_one es k (raises e) p h = itself p e h
  stmt_has_one es k (encloses ds fs hs) p h =
      one_of p (λ r. declarations_raise es.implicit r ds || stmts_raise es (untaken hs r) fs) (λ r. handlers_raise es r hs)
      (one_of p (λ r. declarations_raise es.implicit r ds) (λ r. stmts_raise es (untaken hs r) fs)
      (declarations_have_one es.implicit p ds) (λ x. one_untaken es k p hs fs (stmts_have_one es k fs (untaken hs p) x)))
      (handlers_have_one es k hs p) h

  pub stmts_have_one : (es : Effects) → AllEach es.calls → (fs : StmtsForm) (p : Exception → Bool) → stmts_raise es p fs ≡ true → One p (λ r. stmts_raise es r fs)
  stmts_have_one es k no_stmts p h = cc
  stmts_have_one es k (a_stmt f fs) p h = one_of p (λ r. stmt_raises es r f) (λ r. stmts_raise es r fs) (stmt_has_one es k f p) (stmts_have_one es k fs p) h

  branches_have_one : (es : Effects) → AllEach es.calls → (bs : BranchesForm) (p : Exception → Bool) → branches_raise es p bs ≡ true → One p (λ r. branches_raise es r bs)
  branches_have_one es k (otherwise fs) p h = stmts_have_one es k fs p h
  branches_have_one es k (a_branch e fs bs) p h =
      one_of p (λ r. (r ConstraintError && expression_raises e) || stmts_raise es r fs) (λ r. branches_raise es r bs)
      (one_of p (λ r. r ConstraintError && expression_raises e) (λ r. stmts_raise es r fs) (one_checked p (expression_raises e)) (stmts_have_one es k fs p))
      (branches_have_one es k bs p) h

  pub handlers_have_one : (es : Effects) → AllEach es.calls → (hs : HandlersForm) (p : Exception → Bool) → handlers_raise es p hs ≡ true → One p (λ r. handlers_raise es r hs)
  handlers_have_one es k no_handlers p h = cc
  handlers_have_one es k (a_handler cs fs hs) p h = one_of p (λ r. stmts_raise es r fs) (λ r. handlers_raise es r hs) (stmts_have_one es k fs p) (handlers_have_one es k hs p) h

-- Where no exception is asked for, the answer is no.
pub none_is_raised : (es : Effects) → AllEach es.calls → (p : Exception → Bool) (fs : StmtsForm) → ((e : Exception) → p e ≡ false) → stmts_raise es p fs ≡ false
none_is_raised es k p fs none = false_from_ne_true (stmts_raise es p fs) (λ h. let one = stmts_have_one es k fs p h in both_ways (p one.0) (none one.0) one.1)

-- What the code asks of statements with handlers.

-- With `others` nothing leaves them.
pub none_leaves : (es : HeldEffects) (hs : HandlersForm) (p : Exception → Bool) (fs : StmtsForm) → have_others hs ≡ true →
    stmts_raise (effects_in es) (untaken hs p) fs ≡ false
none_leaves es hs p fs h = none_is_raised (effects_in es) (held_each es.calls.now) (untaken hs p) fs (λ e. nothing_left hs p e h)

-- Without it, what the handlers name has joined what is taken.
pub joined_leave : (es : HeldEffects) (hs : HandlersForm) (s p : Exception → Bool) (fs : StmtsForm) → have_others hs ≡ false →
    stmts_raise (effects_in es) (untaken hs (left_of s p)) fs ≡ stmts_raise (effects_in es) (left_of (with_handlers hs s) p) fs
joined_leave es hs s p fs h = ap (λ r. stmts_raise (effects_in es) r fs) (sym (left_of_handled hs s p h))

-- Where nothing else is taken, what passes the handlers leaves them.
pub passing_leaves : (es : Effects) (hs : HandlersForm) (s : Exception → Bool) (fs : StmtsForm) → ((e : Exception) → s e ≡ false) →
    stmts_raise es (untaken hs (left_of s (λ e. true))) fs ≡ passes es fs hs
passing_leaves es hs s fs h = ap (λ r. stmts_raise es r fs) (left_of_none hs s h)

pub ruleset handled_steps = (none_leaves, joined_leave)

pub ruleset passes_steps = (passing_leaves)
