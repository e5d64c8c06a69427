-- What a form is, which does not change as it is judged: the first statement of a take pair, a statement that may raise an exception, or that leaves a loop.

use Rattle.std.proofs.Common.{◌≡◌, ℕ, ◌+◌, ◌<◌, Bool, true, false, List, [], ◌∷◌, Option, Some, None, refl, sym, ap, ◌∙◌, arith}
use Rattle.std.specs.Prelude.{◌==◌, ◌&&◌, ◌||◌, not, if◌then◌else◌, is_some}
use Rattle.std.specs.List.{list_any}
use Rattle.ada_program.specs.declared.program.Exception.{Exception}
use Rattle.ada_program.specs.declared.program.Exception.TheVariants.{ConstraintError, StorageError, EndError}
use Rattle.ada_program.specs.Form.{PathForm, ExpressionForm, ItemForm, null_item, item_of_path, item_of_value, item_of_record, RightForm, nothing, value_of, allocates, allocates_default, computes, DeclarationForm, creates_pool, collects, declares, declares_record, StmtForm, skips, assigns, assigns_record, frees, gets, writes, writes_text, chooses, repeats, counts, exits, calls, returns, raises, encloses, StmtsForm, no_stmts, a_stmt, BranchesForm, otherwise, a_branch, HandlersForm, no_handlers, a_handler}
use Rattle.ada_program.specs.Handling.{some_takes, handler_of, is_taken}
use Rattle.ada_effects.specs.Effects.{Effects, Implicit, record_path_raises, path_raises, expression_raises, item_raises, items_raise, condition_raises, right_raises, right_starts, declaration_raises, declarations_raise, untaken, stmt_raises, stmts_raise, branches_raise, handlers_raise, passes}
use Rattle.ada_flow.specs.Tracking.{Tracks, seen}
use Rattle.ada_flow.specs.Flow.{leaves_path, clears, begins_pair, has_exit, have_exit, branches_have_exit, handlers_have_exit, is_left, collected, declared, gone_with}
use Rattle.ada_tracked.specs.Forms.{seen_expression, seen_condition, seen_record, seen_item, seen_items, seen_right, seen_declaration, seen_declarations, seen_stmt, seen_stmts, seen_branches, seen_handlers}
use Rattle.ada_tracked.specs.Simple.{PathIsSimple}
use Rattle.ada_tracked.proofs.Lists.{apart_is}
use Rattle.ada_tracked.proofs.Paths.{within}
use Rattle.ada_judged.specs.Obeying.{PathIsOrderly, ItemIsOrderly, ItemsAreOrderly, RightIsOrderly, DeclarationIsOrderly, DeclarationsAreOrderly, StatementIsOrderly, StatementsAreOrderly, BranchesAreOrderly, HandlersAreOrderly}
use Rattle.ada_judged.proofs.ObeyingPaths.{is_end, Sees, plainly, tracked, sees, raises_alike, behind_alike}
use Rattle.ada_judged.proofs.ObeyingExpressions.{expression_raises_alike, condition_raises_alike}
use Rattle.ada_judged.proofs.ObeyingMoves.{first_true, second_true, both_true, same_seen, IsCleared}

-- Take pairs.
leaves_variable : (ds : List ℕ) (c : ℕ) (cs : List ℕ) (b q : Bool) → is_end cs ≡ false → leaves_path ds (c ∷ cs) b ≡ true → q ≡ true → leaves_path ds cs q ≡ true
leaves_variable [] c cs b q e h g = g
leaves_variable (d ∷ ds) c [] b q e h g = absurd (cc)
leaves_variable (d ∷ ds) c (f ∷ fs) b q e h g = absurd (cc)

variable_leaves : (c : ℕ) (cs ds : List ℕ) (b q : Bool) → leaves_path (c ∷ cs) ds b ≡ true → q ≡ true → leaves_path cs ds q ≡ true
variable_leaves c cs [] b q h g = absurd (cc)
variable_leaves c [] (d ∷ []) b q h g = g
variable_leaves c (e ∷ es) (d ∷ []) b q h g = refl
variable_leaves c cs (d ∷ f ∷ fs) b q h g = absurd (cc)

never_leaves : (c d : ℕ) (cs ds : List ℕ) (b : Bool) → is_end ds ≡ false → leaves_path (c ∷ cs) (d ∷ ds) b ≡ true → ⊥
never_leaves c d cs [] b e h = cc
never_leaves c d cs (f ∷ fs) b e h = cc

module _ (tracks : Tracks) where
  leaves_seen :
      (target path a b : PathForm) → PathIsSimple tracks.first target → PathIsSimple tracks.first path → Sees tracks target a → Sees tracks path b → is_end b.selectors ≡ false
      → leaves_path target.selectors path.selectors (not (target.root == path.root)) ≡ true → leaves_path a.selectors b.selectors (not (a.root == b.root)) ≡ true
  leaves_seen target path a b h g (plainly e f) (plainly e' f') ends left =
      ap (λ (p : PathForm). leaves_path p.selectors b.selectors (not (p.root == b.root))) e
      ∙ ap (λ (p : PathForm). leaves_path target.selectors p.selectors (not (target.root == p.root))) e' ∙ left
  leaves_seen target path a b h g (plainly e f) (tracked i c cs root is at e' f') ends left =
      let below : target.root < tracks.first = within tracks.first target.root target.selectors h in
      ap (λ (p : PathForm). leaves_path p.selectors b.selectors (not (p.root == b.root))) e
      ∙ ap (λ (p : PathForm). leaves_path target.selectors p.selectors (not (target.root == p.root))) e'
      ∙ leaves_variable target.selectors c cs (not (target.root == path.root)) (not (target.root == tracks.first + i)) (sym (ap (λ (p : PathForm). is_end p.selectors) e') ∙ ends)
      (sym (ap (λ (ds : List ℕ). leaves_path target.selectors ds (not (target.root == path.root))) is) ∙ left)
      (ap not (apart_is target.root (tracks.first + i) (λ same. absurd (omega (arith, below, same)))))
  leaves_seen target path a b h g (tracked i c cs root is at e f) (plainly e' f') ends left =
      let below : path.root < tracks.first = within tracks.first path.root path.selectors g in
      ap (λ (p : PathForm). leaves_path p.selectors b.selectors (not (p.root == b.root))) e
      ∙ ap (λ (p : PathForm). leaves_path cs p.selectors (not (tracks.first + i == p.root))) e'
      ∙ variable_leaves c cs path.selectors (not (target.root == path.root)) (not (tracks.first + i == path.root))
      (sym (ap (λ (ds : List ℕ). leaves_path ds path.selectors (not (target.root == path.root))) is) ∙ left)
      (ap not (apart_is (tracks.first + i) path.root (λ same. absurd (omega (arith, below, same)))))
  leaves_seen target path a b h g (tracked i c cs root is at e f) (tracked j d ds root' is' at' e' f') ends left =
      absurd (never_leaves c d cs ds (not (target.root == path.root)) (sym (ap (λ (p : PathForm). is_end p.selectors) e') ∙ ends)
      (sym (ap (λ (xs : List ℕ). leaves_path xs (d ∷ ds) (not (target.root == path.root))) is) ∙ sym (ap (λ (xs : List ℕ). leaves_path target.selectors xs (not (target.root == path.root))) is') ∙ left))

  clears_seen : (path : PathForm) (fs : StmtsForm) → clears path fs ≡ true → clears (seen tracks path) (seen_stmts tracks fs) ≡ true
  clears_seen path (a_stmt (assigns target nothing) fs) e = same_seen tracks target path e
  clears_seen path fs e = absurd (cc)

  -- An assignment that begins a take pair begins one as it is judged, or what it moves is a variable there.
  pub pair_seen :
      (target : PathForm) (right : RightForm) (fs : StmtsForm) → PathIsOrderly tracks target → RightIsOrderly tracks right
      → IsCleared tracks right (begins_pair (assigns target right) fs) (begins_pair (assigns (seen tracks target) (seen_right tracks right)) (seen_stmts tracks fs))
  pair_seen target nothing fs h g = tt
  pair_seen target (value_of path) fs h g =
      λ e ends.
      let q = leaves_path target.selectors path.selectors (not (target.root == path.root)) in
      both_true (leaves_path (seen tracks target).selectors (seen tracks path).selectors (not ((seen tracks target).root == (seen tracks path).root))) (clears (seen tracks path) (seen_stmts tracks fs))
      (leaves_seen target path (seen tracks target) (seen tracks path) h.0 g.0 (sees tracks target) (sees tracks path) ends (first_true q (clears path fs) e))
      (clears_seen path fs (second_true q (clears path fs) e))
  pair_seen target (allocates access items) fs h g = tt
  pair_seen target (allocates_default access) fs h g = tt
  pair_seen target (computes e) fs h g = tt

  -- Exits.
  mutual
    has_exit_alike : (f : StmtForm) → has_exit (seen_stmt tracks f) ≡ has_exit f
    has_exit_alike skips = refl
    has_exit_alike (assigns target right) = refl
    has_exit_alike (assigns_record target items) = refl
    has_exit_alike (frees access path) = refl
    has_exit_alike (gets target) = refl
    has_exit_alike (writes e) = refl
    has_exit_alike (writes_text text) = refl
    has_exit_alike (chooses branches) = branches_exit_alike branches
    has_exit_alike (repeats condition fs end_spot) = refl
    has_exit_alike (counts x low high fs end_spot) = refl
    has_exit_alike (exits condition spot) = refl
    has_exit_alike (calls procedure actuals) = refl
    has_exit_alike (returns spot) = refl
    has_exit_alike (raises e) = refl
    has_exit_alike (encloses ds fs hs) =
        ap (λ (b : Bool). b || handlers_have_exit (seen_handlers tracks hs)) (have_exit_alike fs) ∙ ap (λ (b : Bool). have_exit fs || b) (handlers_exit_alike hs)

    have_exit_alike : (fs : StmtsForm) → have_exit (seen_stmts tracks fs) ≡ have_exit fs
    have_exit_alike no_stmts = refl
    have_exit_alike (a_stmt f fs) = ap (λ (b : Bool). b || have_exit (seen_stmts tracks fs)) (has_exit_alike f) ∙ ap (λ (b : Bool). has_exit f || b) (have_exit_alike fs)

    branches_exit_alike : (bs : BranchesForm) → branches_have_exit (seen_branches tracks bs) ≡ branches_have_exit bs
    branches_exit_alike (otherwise fs) = have_exit_alike fs
    branches_exit_alike (a_branch e fs bs) =
        ap (λ (b : Bool). b || branches_have_exit (seen_branches tracks bs)) (have_exit_alike fs) ∙ ap (λ (b : Bool). have_exit fs || b) (branches_exit_alike bs)

    handlers_exit_alike : (hs : HandlersForm) → handlers_have_exit (seen_handlers tracks hs) ≡ handlers_have_exit hs
    handlers_exit_alike no_handlers = refl
    handlers_exit_alike (a_handler choices fs hs) =
        ap (λ (b : Bool). b || handlers_have_exit (seen_handlers tracks hs)) (have_exit_alike fs) ∙ ap (λ (b : Bool). have_exit fs || b) (handlers_exit_alike hs)

  pub is_left_alike : (condition : Option ExpressionForm) (fs : StmtsForm) → is_left (seen_condition tracks condition) (seen_stmts tracks fs) ≡ is_left condition fs
  is_left_alike None fs = have_exit_alike fs
  is_left_alike (Some e) fs = refl

  -- What is gone behind a block.
  collected_alike : (ds : List DeclarationForm) → collected (seen_declarations tracks ds) ≡ collected ds
  collected_alike [] = refl
  collected_alike (creates_pool p ∷ ds) = collected_alike ds
  collected_alike (collects access ∷ ds) = ap (λ (xs : List ℕ). access ∷ xs) (collected_alike ds)
  collected_alike (declares x right ∷ ds) = collected_alike ds
  collected_alike (declares_record x t initial ∷ ds) = ap (λ (xs : List ℕ). t ∷ xs) (collected_alike ds)

  declared_alike : (ds : List DeclarationForm) → declared (seen_declarations tracks ds) ≡ declared ds
  declared_alike [] = refl
  declared_alike (creates_pool p ∷ ds) = declared_alike ds
  declared_alike (collects access ∷ ds) = declared_alike ds
  declared_alike (declares x right ∷ ds) = ap (λ (xs : List ℕ). x ∷ xs) (declared_alike ds)
  declared_alike (declares_record x t initial ∷ ds) = ap (λ (xs : List ℕ). x ∷ xs) (declared_alike ds)

  pub gone_alike : (ds : List DeclarationForm) → gone_with (seen_declarations tracks ds) ≡ gone_with ds
  gone_alike ds =
      ap (λ (xs : List ℕ). record { types = xs; variables = declared (seen_declarations tracks ds) }) (collected_alike ds)
      ∙ ap (λ (xs : List ℕ). record { types = collected ds; variables = xs }) (declared_alike ds)

  -- Exceptions that may be raised.
  taken_alike : (hs : HandlersForm) (e : Exception) → is_taken (seen_handlers tracks hs) e ≡ is_taken hs e
  taken_alike no_handlers e = refl
  taken_alike (a_handler choices fs hs) e = chosen (some_takes e choices) (taken_alike hs e)
    where
      chosen : (b : Bool) → is_taken (seen_handlers tracks hs) e ≡ is_taken hs e → is_some (if b then Some (seen_stmts tracks fs) else handler_of e (seen_handlers tracks hs)) ≡ is_some (if b then Some fs else handler_of e hs)
      chosen true h = refl
      chosen false h = h

  -- Two questions are one.
  abbrev Alike : (p q : Exception → Bool) → Type 0
  Alike p q = (e : Exception) → p e ≡ q e

  untaken_alike : (p q : Exception → Bool) → Alike p q → (hs : HandlersForm) → Alike (untaken (seen_handlers tracks hs) p) (untaken hs q)
  untaken_alike p q h hs e = ap (λ (b : Bool). b && not (is_taken (seen_handlers tracks hs) e)) (h e) ∙ ap (λ (b : Bool). q e && not b) (taken_alike hs e)

  some_alike : (p q : Exception → Bool) → Alike p q → (es : List Exception) → list_any p es ≡ list_any q es
  some_alike p q h [] = refl
  some_alike p q h (e ∷ es) = ap (λ (b : Bool). b || list_any p es) (h e) ∙ ap (λ (b : Bool). q e || b) (some_alike p q h es)

  item_raises_alike : (i : ItemForm) → ItemIsOrderly tracks i → item_raises (seen_item tracks i) ≡ item_raises i
  item_raises_alike null_item g = refl
  item_raises_alike (item_of_path path) g = raises_alike tracks path (seen tracks path) g.1 (sees tracks path)
  item_raises_alike (item_of_value e) g = expression_raises_alike tracks e g
  item_raises_alike (item_of_record p) g = behind_alike tracks p.object (seen tracks p.object) (sees tracks p.object)

  pub items_raise_alike : (is : List ItemForm) → ItemsAreOrderly tracks is → items_raise (seen_items tracks is) ≡ items_raise is
  items_raise_alike [] g = refl
  items_raise_alike (i ∷ is) g = ap (λ (b : Bool). b || items_raise (seen_items tracks is)) (item_raises_alike i g.0) ∙ ap (λ (b : Bool). item_raises i || b) (items_raise_alike is g.1)

  -- Both tests are alike.
  and_alike : (a b c d : Bool) → a ≡ c → b ≡ d → (a && b) ≡ (c && d)
  and_alike a b c d e f = rw (e, f)

  or_alike : (a b c d : Bool) → a ≡ c → b ≡ d → (a || b) ≡ (c || d)
  or_alike a b c d e f = rw (e, f)

  right_raises_alike : (p q : Exception → Bool) → Alike p q → (right : RightForm) → RightIsOrderly tracks right → right_raises p (seen_right tracks right) ≡ right_raises q right
  right_raises_alike p q h nothing g = refl
  right_raises_alike p q h (value_of path) g =
      and_alike (p ConstraintError) (path_raises (seen tracks path)) (q ConstraintError) (path_raises path) (h ConstraintError) (raises_alike tracks path (seen tracks path) g.1 (sees tracks path))
  right_raises_alike p q h (allocates access items) g =
      or_alike (p StorageError) (p ConstraintError && items_raise (seen_items tracks items)) (q StorageError) (q ConstraintError && items_raise items) (h StorageError)
      (and_alike (p ConstraintError) (items_raise (seen_items tracks items)) (q ConstraintError) (items_raise items) (h ConstraintError) (items_raise_alike items g))
  right_raises_alike p q h (allocates_default access) g = h StorageError
  right_raises_alike p q h (computes e) g =
      and_alike (p ConstraintError) (expression_raises (seen_expression tracks e)) (q ConstraintError) (expression_raises e) (h ConstraintError) (expression_raises_alike tracks e g)

  right_starts_alike : (implicit : Implicit) (p q : Exception → Bool) → Alike p q → (right : RightForm) → right_starts implicit p (seen_right tracks right) ≡ right_starts implicit q right
  right_starts_alike implicit p q h nothing = refl
  right_starts_alike implicit p q h (value_of path) = refl
  right_starts_alike implicit p q h (allocates access items) = some_alike p q h (implicit.start_raises access)
  right_starts_alike implicit p q h (allocates_default access) = some_alike p q h (implicit.start_raises access)
  right_starts_alike implicit p q h (computes e) = refl

  declaration_raises_alike : (implicit : Implicit) (p q : Exception → Bool) → Alike p q → (d : DeclarationForm) → DeclarationIsOrderly tracks d → declaration_raises implicit p (seen_declaration tracks d) ≡ declaration_raises implicit q d
  declaration_raises_alike implicit p q h (creates_pool pool) g = refl
  declaration_raises_alike implicit p q h (collects access) g = refl
  declaration_raises_alike implicit p q h (declares x right) g =
      or_alike (right_raises p (seen_right tracks right)) (right_starts implicit p (seen_right tracks right)) (right_raises q right) (right_starts implicit q right)
      (right_raises_alike p q h right g.1) (right_starts_alike implicit p q h right)
  declaration_raises_alike implicit p q h (declares_record x t initial) g = absurd g

  declarations_raise_alike : (implicit : Implicit) (p q : Exception → Bool) → Alike p q → (ds : List DeclarationForm) → DeclarationsAreOrderly tracks ds → declarations_raise implicit p (seen_declarations tracks ds) ≡ declarations_raise implicit q ds
  declarations_raise_alike implicit p q h [] g = refl
  declarations_raise_alike implicit p q h (d ∷ ds) g =
      or_alike (declaration_raises implicit p (seen_declaration tracks d)) (declarations_raise implicit p (seen_declarations tracks ds)) (declaration_raises implicit q d) (declarations_raise implicit q ds)
      (declaration_raises_alike implicit p q h d g.0) (declarations_raise_alike implicit p q h ds g.1)

  mutual
    stmt_raises_alike : (effects : Effects) (f : StmtForm) (p q : Exception → Bool) → Alike p q → StatementIsOrderly tracks f → stmt_raises effects p (seen_stmt tracks f) ≡ stmt_raises effects q f
    stmt_raises_alike effects skips p q h g = refl
    stmt_raises_alike effects (assigns target right) p q h g =
        or_alike ((p ConstraintError && path_raises (seen tracks target)) || right_raises p (seen_right tracks right)) (right_starts effects.implicit p (seen_right tracks right))
        ((q ConstraintError && path_raises target) || right_raises q right) (right_starts effects.implicit q right)
        (or_alike (p ConstraintError && path_raises (seen tracks target)) (right_raises p (seen_right tracks right)) (q ConstraintError && path_raises target) (right_raises q right)
        (and_alike (p ConstraintError) (path_raises (seen tracks target)) (q ConstraintError) (path_raises target) (h ConstraintError) (raises_alike tracks target (seen tracks target) g.0.1 (sees tracks target)))
        (right_raises_alike p q h right g.1))
        (right_starts_alike effects.implicit p q h right)
    stmt_raises_alike effects (assigns_record target items) p q h g =
        and_alike (p ConstraintError) (record_path_raises (seen_record tracks target) || items_raise (seen_items tracks items)) (q ConstraintError) (record_path_raises target || items_raise items) (h ConstraintError)
        (or_alike (record_path_raises (seen_record tracks target)) (items_raise (seen_items tracks items)) (record_path_raises target) (items_raise items)
        (behind_alike tracks target.object (seen tracks target.object) (sees tracks target.object)) (items_raise_alike items g.1))
    stmt_raises_alike effects (frees access path) p q h g =
        and_alike (p ConstraintError) (path_raises (seen tracks path)) (q ConstraintError) (path_raises path) (h ConstraintError) (raises_alike tracks path (seen tracks path) g.1 (sees tracks path))
    stmt_raises_alike effects (gets target) p q h g =
        or_alike (p EndError) (p ConstraintError && path_raises (seen tracks target)) (q EndError) (q ConstraintError && path_raises target) (h EndError)
        (and_alike (p ConstraintError) (path_raises (seen tracks target)) (q ConstraintError) (path_raises target) (h ConstraintError) (raises_alike tracks target (seen tracks target) g.0.1 (sees tracks target)))
    stmt_raises_alike effects (writes e) p q h g =
        and_alike (p ConstraintError) (expression_raises (seen_expression tracks e)) (q ConstraintError) (expression_raises e) (h ConstraintError) (expression_raises_alike tracks e g)
    stmt_raises_alike effects (writes_text text) p q h g = refl
    stmt_raises_alike effects (chooses branches) p q h g = branches_raise_alike effects branches p q h g
    stmt_raises_alike effects (repeats condition fs end_spot) p q h g =
        or_alike (p ConstraintError && condition_raises (seen_condition tracks condition)) (stmts_raise effects p (seen_stmts tracks fs)) (q ConstraintError && condition_raises condition) (stmts_raise effects q fs)
        (and_alike (p ConstraintError) (condition_raises (seen_condition tracks condition)) (q ConstraintError) (condition_raises condition) (h ConstraintError) (condition_raises_alike tracks condition g.0))
        (stmts_raise_alike effects fs p q h g.1)
    stmt_raises_alike effects (counts x low high fs end_spot) p q h g =
        or_alike (p ConstraintError && (expression_raises (seen_expression tracks low) || expression_raises (seen_expression tracks high))) (stmts_raise effects p (seen_stmts tracks fs))
        (q ConstraintError && (expression_raises low || expression_raises high)) (stmts_raise effects q fs)
        (and_alike (p ConstraintError) (expression_raises (seen_expression tracks low) || expression_raises (seen_expression tracks high)) (q ConstraintError) (expression_raises low || expression_raises high) (h ConstraintError)
        (or_alike (expression_raises (seen_expression tracks low)) (expression_raises (seen_expression tracks high)) (expression_raises low) (expression_raises high)
        (expression_raises_alike tracks low g.1) (expression_raises_alike tracks high g.2)))
        (stmts_raise_alike effects fs p q h g.3)
    stmt_raises_alike effects (exits condition spot) p q h g =
        and_alike (p ConstraintError) (condition_raises (seen_condition tracks condition)) (q ConstraintError) (condition_raises condition) (h ConstraintError) (condition_raises_alike tracks condition g)
    stmt_raises_alike effects (calls procedure actuals) p q h g = absurd g
    stmt_raises_alike effects (returns spot) p q h g = refl
    stmt_raises_alike effects (raises e) p q h g = h e
    stmt_raises_alike effects (encloses ds fs hs) p q h g =
        or_alike (declarations_raise effects.implicit p (seen_declarations tracks ds) || stmts_raise effects (untaken (seen_handlers tracks hs) p) (seen_stmts tracks fs)) (handlers_raise effects p (seen_handlers tracks hs))
        (declarations_raise effects.implicit q ds || stmts_raise effects (untaken hs q) fs) (handlers_raise effects q hs)
        (or_alike (declarations_raise effects.implicit p (seen_declarations tracks ds)) (stmts_raise effects (untaken (seen_handlers tracks hs) p) (seen_stmts tracks fs)) (declarations_raise effects.implicit q ds) (stmts_raise effects (untaken hs q) fs)
        (declarations_raise_alike effects.implicit p q h ds g.0)
        (stmts_raise_alike effects fs (untaken (seen_handlers tracks hs) p) (untaken hs q) (untaken_alike p q h hs) g.1))
        (handlers_raise_alike effects hs p q h g.2)

    stmts_raise_alike : (effects : Effects) (fs : StmtsForm) (p q : Exception → Bool) → Alike p q → StatementsAreOrderly tracks fs → stmts_raise effects p (seen_stmts tracks fs) ≡ stmts_raise effects q fs
    stmts_raise_alike effects no_stmts p q h g = refl
    stmts_raise_alike effects (a_stmt f fs) p q h g =
        or_alike (stmt_raises effects p (seen_stmt tracks f)) (stmts_raise effects p (seen_stmts tracks fs)) (stmt_raises effects q f) (stmts_raise effects q fs)
        (stmt_raises_alike effects f p q h g.0) (stmts_raise_alike effects fs p q h g.1)

    branches_raise_alike : (effects : Effects) (bs : BranchesForm) (p q : Exception → Bool) → Alike p q → BranchesAreOrderly tracks bs → branches_raise effects p (seen_branches tracks bs) ≡ branches_raise effects q bs
    branches_raise_alike effects (otherwise fs) p q h g = stmts_raise_alike effects fs p q h g
    branches_raise_alike effects (a_branch e fs bs) p q h g =
        or_alike ((p ConstraintError && expression_raises (seen_expression tracks e)) || stmts_raise effects p (seen_stmts tracks fs)) (branches_raise effects p (seen_branches tracks bs))
        ((q ConstraintError && expression_raises e) || stmts_raise effects q fs) (branches_raise effects q bs)
        (or_alike (p ConstraintError && expression_raises (seen_expression tracks e)) (stmts_raise effects p (seen_stmts tracks fs)) (q ConstraintError && expression_raises e) (stmts_raise effects q fs)
        (and_alike (p ConstraintError) (expression_raises (seen_expression tracks e)) (q ConstraintError) (expression_raises e) (h ConstraintError) (expression_raises_alike tracks e g.0))
        (stmts_raise_alike effects fs p q h g.1))
        (branches_raise_alike effects bs p q h g.2)

    handlers_raise_alike : (effects : Effects) (hs : HandlersForm) (p q : Exception → Bool) → Alike p q → HandlersAreOrderly tracks hs → handlers_raise effects p (seen_handlers tracks hs) ≡ handlers_raise effects q hs
    handlers_raise_alike effects no_handlers p q h g = refl
    handlers_raise_alike effects (a_handler choices fs hs) p q h g =
        or_alike (stmts_raise effects p (seen_stmts tracks fs)) (handlers_raise effects p (seen_handlers tracks hs)) (stmts_raise effects q fs) (handlers_raise effects q hs)
        (stmts_raise_alike effects fs p q h g.0) (handlers_raise_alike effects hs p q h g.1)

  pub passes_alike : (effects : Effects) (fs : StmtsForm) (hs : HandlersForm) → StatementsAreOrderly tracks fs → passes effects (seen_stmts tracks fs) (seen_handlers tracks hs) ≡ passes effects fs hs
  passes_alike effects fs hs g =
      stmts_raise_alike effects fs (λ e. not (is_taken (seen_handlers tracks hs) e)) (λ e. not (is_taken hs e)) (λ e. ap not (taken_alike hs e)) g
