-- Statements in which others nest: what their flow says of their parts.

use Rattle.std.proofs.Common.{◌≡◌, ℕ, Bool, true, false, ◌&&◌, ◌||◌, List, [], ◌∷◌, refl}
use Rattle.std.specs.Prelude.{if◌then◌else◌, ℤ, Option, Some, None}
use Rattle.ada_text.specs.declared.spot.Spot.{Spot}
use Rattle.ada_program.specs.declared.program.Exception.{Exception}
use Rattle.ada_program.specs.declared.program.Exception.TheVariants.{ConstraintError}
use Rattle.ada_program.specs.Form.{ExpressionForm, DeclarationForm, StmtForm, chooses, repeats, counts, encloses, StmtsForm, a_stmt, BranchesForm, otherwise, a_branch, HandlersForm, no_handlers, a_handler}
use Rattle.ada_program.specs.Handling.{is_same, some_takes, handler_of}
use Rattle.ada_effects.specs.Effects.{Effects, effects_of, endings_free, declaration_frees, declarations_free, leaving_frees, stmt_frees, stmts_free, branches_free, handlers_free, expression_raises, untaken, declaration_raises, declarations_raise, stmt_raises, stmts_raise, branches_raise, handlers_raise, passes}
use Rattle.ada_flow.specs.Flow.{Holds, Outcome, loop_flow, uses_in, computed as computed_flow, bounds_flow, either_of, opened_by_all, counting_start, has_exit, have_exit, branches_have_exit, handlers_have_exit, is_left, condition_flow, ends_turn, exit_of, exit_flow, declaration_flow, declarations_flow, Gone, nothing_gone, gone_with, gone_with_both, loses, left, left_finalized, in_loop, begins_pair, stmt_flow, stmts_flow, branches_flow, handlers_flow, handled, then_flow, goes}
use Rattle.ada_flow.specs.Tracking.{no_tracks}
use Rattle.ada_meaning.specs.Frame.{Does, Repeats, Counts, Handles, Closes}
use Rattle.ada_sound.specs.Agreement.{Turning, past, into, counting, behind, in_branches, in_body, in_count, in_enclosed, in_others, in_this, in_next, to_this, to_next, ComesInside, in_statements, in_handlers}
use Rattle.ada_sound.proofs.Orderings.{AsGood, as_good_then, good_each, all_good, good_to_lost}
use Rattle.ada_sound.proofs.Values.{lost_here}
use Rattle.ada_sound.proofs.Invariant.{Known, Where, around_at, in_turn, Spares, Control, Goes, To, Ways, Raised, From, MayExit, OnExit, MayReturn, OnReturn, owed_by, Doing, Choosing, Handling, TurnsTo, condition_among, Repeating, Counting, TakenBy, Handled, MayEnd, Outside, Elaborating, NoneBroken}
use Rattle.ada_sound.proofs.Outcomes.{goes_map, goes_with, to_here, to_before, raised_before, raised_less, then_goes, either_goes, computed_goes, worse_goes, turn_goes, left_goes, loses_goes, block_goes, handled_goes}
use Rattle.ada_sound.proofs.Raising.{or_left, or_right, raises_untaken, raises_past}
use Rattle.ada_sound.proofs.Leavings.{left_twice}
use Rattle.ada_sound.proofs.LeftFinalized.{finalized_good, finalized_twice, freed_gives, endings_leave}

-- A loop that an exit leaves is left.
exit_leaves : (condition : Option ExpressionForm) (body : StmtsForm) → have_exit body ≡ true → is_left condition body ≡ true
exit_leaves None body e = e
exit_leaves (Some c) body e = refl

module _ (known : Known) where
  abbrev effects : Effects
  effects = effects_of known.implicit known.program

  -- May these free an object of an access type?
  abbrev stmt_may : (access : ℕ) → StmtForm → Bool
  stmt_may t f = stmt_frees known.program.types known.program.variables effects t f

  abbrev stmts_may : (access : ℕ) → StmtsForm → Bool
  stmts_may t fs = stmts_free known.program.types known.program.variables effects t fs

  abbrev branches_may : (access : ℕ) → BranchesForm → Bool
  branches_may t branches = branches_free known.program.types known.program.variables effects t branches

  abbrev handlers_may : (access : ℕ) → HandlersForm → Bool
  handlers_may t hs = handlers_free known.program.types known.program.variables effects t hs

  -- May the operations that declarations call, and the end of what these create (7.6, 7.6.1)?
  abbrev parts_may : (access : ℕ) → List DeclarationForm → Bool
  parts_may t ds = declarations_free known.implicit t ds || leaving_frees known.implicit t ds

  -- What is known where a statement begins, and others are behind it.
  abbrev pub Then : StmtsForm → Control → Ways → Ways
  Then fs k w = record w { normal = λ holds. Doing known fs k w holds }

  abbrev pub Starting : Where → StmtForm → StmtsForm → Control → Ways → Holds → Type 0
  Starting here f fs k w holds =
      From known (around_at known here) k (a_stmt f fs) holds
      × Goes (stmt_flow known.program.types known.program.variables (around_at known here) (begins_pair f fs) f holds) (Doing known fs k w) (Raised (λ e. stmt_raises effects (is_same e) f) w)
      × OnExit known.program.variables (has_exit f) (around_at known here) w.exited × OnReturn known.program.variables (around_at known here) w.returned
      × Spares known (λ t. stmt_may t f)

  -- Behind the first statement come the others, where it comes to its end.
  pub starts : (f : StmtForm) (fs : StmtsForm) (k : Control) (w : Ways) (holds : Holds) (d : Doing known (a_stmt f fs) k w holds) → Starting d.0 f fs k w holds
  starts f fs k w holds (here, from, g, exits', returns', spares) = (
    from,
    goes_with (stmt_flow known.program.types known.program.variables (around_at known here) (begins_pair f fs) f holds) (λ h. Goes (stmts_flow known.program.types known.program.variables (around_at known here) fs h) (To w.normal) (Raised (λ e. stmts_raise effects (is_same e) (a_stmt f fs)) w)) (Raised (λ e. stmts_raise effects (is_same e) (a_stmt f fs)) w) (Doing known fs k w) (Raised (λ e. stmt_raises effects (is_same e) f) w)
        (λ mid raising is more. (
          here,
          (λ way place at c. from (past ∷ way) place at (behind mid is c)),
          goes_map (stmts_flow known.program.types known.program.variables (around_at known here) fs mid) (To w.normal) (Raised (λ e. stmts_raise effects (is_same e) (a_stmt f fs)) w) (To w.normal) (Raised (λ e. stmts_raise effects (is_same e) fs) w)
              (λ h m. m) (λ h r. raised_less (λ e. stmts_raise effects (is_same e) (a_stmt f fs)) (λ e. stmts_raise effects (is_same e) fs) w (λ e i. or_right (stmt_raises effects (is_same e) f) (stmts_raise effects (is_same e) fs) i) h r) more,
          (λ e. exits' (or_right (has_exit f) (have_exit fs) e)),
          returns',
          (λ t i. spares t (or_right (stmt_may t f) (stmts_may t fs) i)),
        ))
        (λ normal h is r. raised_less (λ e. stmts_raise effects (is_same e) (a_stmt f fs)) (λ e. stmt_raises effects (is_same e) f) w (λ e i. or_left (stmt_raises effects (is_same e) f) (stmts_raise effects (is_same e) fs) i) h r)
        (then_goes (stmt_flow known.program.types known.program.variables (around_at known here) (begins_pair f fs) f holds) (stmts_flow known.program.types known.program.variables (around_at known here) fs) (To w.normal) (Raised (λ e. stmts_raise effects (is_same e) (a_stmt f fs)) w) (raised_before (λ e. stmts_raise effects (is_same e) (a_stmt f fs)) w) g),
    (λ e. exits' (or_left (has_exit f) (have_exit fs) e)),
    returns',
    (λ t i. spares t (or_left (stmt_may t f) (stmts_may t fs) i)),
  )

  -- No condition is left: the last statements are done (5.3).
  pub others_do : (fs : StmtsForm) (k : Control) (w : Ways) (holds : Holds) → Choosing known (otherwise fs) k w holds → Doing known fs k w holds
  others_do fs k w holds c = (c.0, (λ way place at d. c.1 (into ∷ way) place at (in_others d)), c.2, c.3, c.4, c.5)

  -- A condition uses nothing that is lost, and its branch is done, or others are.
  pub branch_does : (e : ExpressionForm) (fs : StmtsForm) (branches : BranchesForm) (k : Control) (w : Ways) (holds : Holds) → Choosing known (a_branch e fs branches) k w holds → NoneBroken holds (uses_in e) × (expression_raises e ≡ true → To (w.raised ConstraintError) holds) × Doing known fs k w holds × Choosing known branches k w holds
  branch_does e fs branches k w holds (here, from, g, out, returns', spares) =
      let v = known.program.variables in
      let among : Exception → Bool = λ x. branches_raise effects (is_same x) (a_branch e fs branches) in
      let both = computed_goes e holds _ (Raised among w) (goes_with (computed_flow no_tracks e holds) (λ h. Goes (either_of (stmts_flow known.program.types v (around_at known here) fs h) (branches_flow known.program.types v (around_at known here) branches h)) (To w.normal) (Raised among w)) (Raised among w)
      (λ h. ((raising : Option Holds) × (computed_flow no_tracks e holds ≡ goes (Some h) raising)) × Goes (stmts_flow known.program.types v (around_at known here) fs h) (To w.normal) (Raised among w) × Goes (branches_flow known.program.types v (around_at known here) branches h) (To w.normal) (Raised among w)) (Raised among w)
      (λ h raising is m. let two = either_goes (stmts_flow known.program.types v (around_at known here) fs h) (branches_flow known.program.types v (around_at known here) branches h) (To w.normal) (Raised among w) (to_before w.normal) (raised_before among w) m in ((raising, is), two.0, two.1))
      (λ normal h is r. r)
      (then_goes (computed_flow no_tracks e holds) (λ h. either_of (stmts_flow known.program.types v (around_at known here) fs h) (branches_flow known.program.types v (around_at known here) branches h)) (To w.normal) (Raised among w) (raised_before among w) g)) in (
        both.0,
        (λ may. both.2 may ConstraintError (or_left (expression_raises e || stmts_raise effects (is_same ConstraintError) fs) (branches_raise effects (is_same ConstraintError) branches) (or_left (expression_raises e) (stmts_raise effects (is_same ConstraintError) fs) may))),
        (
          here,
          (λ way place at c. from (into ∷ way) place at (in_this holds both.1.0.1 c)),
          goes_map (stmts_flow known.program.types v (around_at known here) fs holds) (To w.normal) (Raised among w) (To w.normal) (Raised (λ x. stmts_raise effects (is_same x) fs) w) (λ h m. m)
              (λ h r. raised_less among (λ x. stmts_raise effects (is_same x) fs) w (λ x i. or_left ((is_same x ConstraintError && expression_raises e) || stmts_raise effects (is_same x) fs) (branches_raise effects (is_same x) branches) (or_right (is_same x ConstraintError && expression_raises e) (stmts_raise effects (is_same x) fs) i)) h r) both.1.1,
          (λ b. out (or_left (have_exit fs) (branches_have_exit branches) b)),
          returns',
          (λ t i. spares t (or_left (stmts_may t fs) (branches_may t branches) i)),
        ),
        (
          here,
          (λ way place at c. from (past ∷ way) place at (in_next holds both.1.0.1 c)),
          goes_map (branches_flow known.program.types v (around_at known here) branches holds) (To w.normal) (Raised among w) (To w.normal) (Raised (λ x. branches_raise effects (is_same x) branches) w) (λ h m. m)
              (λ h r. raised_less among (λ x. branches_raise effects (is_same x) branches) w (λ x i. or_right ((is_same x ConstraintError && expression_raises e) || stmts_raise effects (is_same x) fs) (branches_raise effects (is_same x) branches) i) h r) both.1.2,
          (λ b. out (or_right (have_exit fs) (branches_have_exit branches) b)),
          returns',
          (λ t i. spares t (or_right (stmts_may t fs) (branches_may t branches) i)),
        ),
      )

  -- An `if` begins with its first branch.
  pub chooses_from : (here : Where) (branches : BranchesForm) (fs : StmtsForm) (k : Control) (w : Ways) (holds : Holds) → Starting here (chooses branches) fs k w holds → Choosing known branches (Does fs ∷ k) (Then fs k w) holds
  chooses_from here branches fs k w holds (from, g, out, returns', spares) = (
    here,
    (λ way place at c. from (into ∷ way) place at (in_branches c)),
    goes_map (branches_flow known.program.types known.program.variables (around_at known here) branches holds) (Doing known fs k w) (Raised (λ e. branches_raise effects (is_same e) branches) w) (To (Then fs k w).normal) (Raised (λ e. branches_raise effects (is_same e) branches) w) (to_here (Then fs k w).normal) (λ h r. r) g,
    out,
    returns',
    spares,
  )

  -- A loop begins with its first turn (5.5).
  pub repeats_from : (here : Where) (condition : Option ExpressionForm) (body : StmtsForm) (end_spot : Spot) (fs : StmtsForm) (k : Control) (w : Ways) (holds : Holds) → Starting here (repeats condition body end_spot) fs k w holds → Repeating known condition body (Does fs ∷ k) (Then fs k w) holds
  repeats_from here condition body end_spot fs k w holds (from, g, out, returns', spares) =
      let v = known.program.variables in
      let first = opened_by_all v no_tracks body holds in
      let among : Exception → Bool = λ x. stmt_raises effects (is_same x) (repeats condition body end_spot) in
      let left = left_goes (is_left condition body) first (then_flow (condition_flow no_tracks condition first) (λ hs. ends_turn first end_spot (stmts_flow known.program.types v (around_at known (in_turn first here.within)) body hs))) (Doing known fs k w) (Raised among w) g in (
        first,
        all_good v body holds,
        (
          here.within,
          goes_with (condition_flow no_tracks condition first) (λ h. Goes (ends_turn first end_spot (stmts_flow known.program.types v (around_at known (in_turn first here.within)) body h)) (λ after. Unit {0}) (Raised among w)) (Raised among w) (TurnsTo known body (Repeats condition body ∷ Does fs ∷ k) (Then fs k w) here.within first) (Raised (condition_among condition) w)
              (λ mid raising is m. (
                (λ way place at c. from (into ∷ way) place at (in_body mid is c)),
                goes_map (stmts_flow known.program.types v (around_at known (in_turn first here.within)) body mid) (λ after. AsGood after first) (Raised among w) (λ after. AsGood after first) (Raised (λ x. stmts_raise effects (is_same x) body) w) (λ h n. n)
                    (λ h r. raised_less among (λ x. stmts_raise effects (is_same x) body) w (λ x i. or_right (condition_among condition x) (stmts_raise effects (is_same x) body) i) h r)
                    (turn_goes first end_spot (stmts_flow known.program.types v (around_at known (in_turn first here.within)) body mid) (λ after. Unit {0}) (Raised among w) m),
                spares,
              ))
              (λ normal h is r. raised_less among (condition_among condition) w (λ x i. or_left (condition_among condition x) (stmts_raise effects (is_same x) body) i) h r)
              (then_goes (condition_flow no_tracks condition first) (λ h. ends_turn first end_spot (stmts_flow known.program.types v (around_at known (in_turn first here.within)) body h)) (λ after. Unit {0}) (Raised among w) (raised_before among w) left.0),
          returns',
        ),
        (λ e. to_here (Doing known fs k w) first (left.1 e)),
      )

  -- What may leave a loop is known behind it.
  exits_loop : (start : Holds) (w : Ways) → To w.normal start → (holds : Holds) → MayExit known.program.variables known.implicit (Some start) nothing_gone holds → To w.normal holds
  exits_loop start w behind' holds may =
      let behind = left_finalized known.program.variables known.implicit nothing_gone holds in
      to_before w.normal holds start (as_good_then holds behind start (finalized_good known.program.variables known.implicit nothing_gone holds) (good_each behind start may)) behind'

  -- The body of a loop is followed by the next turn, and its exits lead behind the loop.
  abbrev pub Again : Option ExpressionForm → StmtsForm → Control → Ways → Ways
  Again condition body k w = record w { normal = λ holds. Repeating known condition body k w holds; exited = λ holds. To w.normal holds }

  pub turn_runs : (condition : Option ExpressionForm) (body : StmtsForm) (k : Control) (w : Ways) (holds : Holds) (r : Repeating known condition body k w holds) → TurnsTo known body (Repeats condition body ∷ k) w r.2.0 r.0 r.0 → Doing known body (Repeats condition body ∷ k) (Again condition body k w) r.0
  turn_runs condition body k w holds (start, good', (within, turns, returns'), behind') t = (
    in_turn start within,
    t.0,
    goes_map (stmts_flow known.program.types known.program.variables (around_at known (in_turn start within)) body start) (λ after. AsGood after start) (Raised (λ e. stmts_raise effects (is_same e) body) w) (To (Again condition body k w).normal) (Raised (λ e. stmts_raise effects (is_same e) body) w)
        (λ after good. to_here (Again condition body k w).normal after (start, good, (within, turns, returns'), behind')) (λ h r. r) t.1,
    (λ has_one holds may. exits_loop start w (behind' (exit_leaves condition body has_one)) holds may),
    returns',
    t.2,
  )

  -- A `for` loop begins once its bounds are computed.
  pub counts_from : (here : Where) (x : ℕ) (low high : ExpressionForm) (body : StmtsForm) (end_spot : Spot) (fs : StmtsForm) (k : Control) (w : Ways) (holds : Holds) → Starting here (counts x low high body end_spot) fs k w holds → Goes (bounds_flow no_tracks low high holds) (Counting known x body (Does fs ∷ k) (Then fs k w)) (Raised (λ e. is_same e ConstraintError && (expression_raises low || expression_raises high)) w)
  counts_from here x low high body end_spot fs k w holds (from, g, out, returns', spares) =
      let v = known.program.variables in
      let among : Exception → Bool = λ y. stmt_raises effects (is_same y) (counts x low high body end_spot) in
      let stmt_loop : Holds → Outcome = λ hs. loop_flow no_tracks None true end_spot (λ start h. stmts_flow known.program.types v (in_loop start (around_at known here)) body h) (counting_start v no_tracks x body hs) in
      let turn : Holds → Holds → Outcome = λ first h. ends_turn first end_spot (stmts_flow known.program.types v (around_at known (in_turn first here.within)) body h) in
      goes_with (bounds_flow no_tracks low high holds) (λ hs. Goes (stmt_loop hs) (Doing known fs k w) (Raised among w)) (Raised among w) (Counting known x body (Does fs ∷ k) (Then fs k w)) (Raised (λ e. is_same e ConstraintError && (expression_raises low || expression_raises high)) w)
      (λ hs raising is m.
      let first = counting_start v no_tracks x body hs in
      let left = left_goes true first (then_flow (condition_flow no_tracks None first) (turn first)) (Doing known fs k w) (Raised among w) m in
      let turns = then_goes (condition_flow no_tracks None first) (turn first) (λ after. Unit {0}) (Raised among w) (raised_before among w) left.0 in (
        first,
        good_to_lost x hs (opened_by_all v no_tracks body hs) (all_good v body hs),
        lost_here (opened_by_all v no_tracks body hs) x,
        (
          here.within,
          (λ next last. (
            (λ way place at c. from (counting next last ∷ way) place at (in_count hs is c)),
            goes_map (stmts_flow known.program.types v (around_at known (in_turn first here.within)) body first) (λ after. AsGood after first) (Raised among w) (λ after. AsGood after first) (Raised (λ y. stmts_raise effects (is_same y) body) w) (λ h n. n)
                (λ h r. raised_less among (λ y. stmts_raise effects (is_same y) body) w (λ y i. or_right (is_same y ConstraintError && (expression_raises low || expression_raises high)) (stmts_raise effects (is_same y) body) i) h r)
                (turn_goes first end_spot (stmts_flow known.program.types v (around_at known (in_turn first here.within)) body first) (λ after. Unit {0}) (Raised among w) turns.0),
            spares,
          )),
          returns',
        ),
        to_here (Doing known fs k w) first (left.1 refl),
      ))
      (λ normal h is r. raised_less among (λ y. is_same y ConstraintError && (expression_raises low || expression_raises high)) w (λ y i. or_left (is_same y ConstraintError && (expression_raises low || expression_raises high)) (stmts_raise effects (is_same y) body) i) h r)
      (then_goes (bounds_flow no_tracks low high holds) stmt_loop (Doing known fs k w) (Raised among w) (raised_before among w) g)

  -- Each turn of it.
  abbrev pub Next : (x : ℕ) → StmtsForm → Control → Ways → Ways
  Next x body k w = record w { normal = λ holds. Counting known x body k w holds; exited = λ holds. To w.normal holds }

  pub count_runs : (x : ℕ) (next last : ℤ) (body : StmtsForm) (k : Control) (w : Ways) (holds : Holds) (c : Counting known x body k w holds) → Doing known body (Counts x next last body ∷ k) (Next x body k w) c.0
  count_runs x next last body k w holds (start, good', lost, (within, turns, returns'), behind') = (
    in_turn start within,
    (turns next last).0,
    goes_map (stmts_flow known.program.types known.program.variables (around_at known (in_turn start within)) body start) (λ after. AsGood after start) (Raised (λ e. stmts_raise effects (is_same e) body) w) (To (Next x body k w).normal) (Raised (λ e. stmts_raise effects (is_same e) body) w)
        (λ after good. to_here (Next x body k w).normal after (start, good, lost, (within, turns, returns'), behind')) (λ h r. r) (turns next last).1,
    (λ has_one holds may. exits_loop start w behind' holds may),
    returns',
    (turns next last).2,
  )

  -- An exit goes behind the loop, or on (5.7).
  pub exit_parts : (start : Option Holds) (inside : Gone) (condition : Option ExpressionForm) (spot : Spot) (holds : Holds) (more raised exited : Holds → Type 0) → Goes (exit_flow known.program.variables no_tracks known.implicit start inside condition spot holds) more raised → ((h : Holds) → MayExit known.program.variables known.implicit start inside h → exited h) → Goes (exit_of no_tracks condition holds) more raised × exited holds
  exit_parts None inside condition spot holds more raised exited g out = (g, out holds tt)
  exit_parts (Some start) inside condition spot holds more raised exited g out =
      let h = worse_goes start (left_finalized known.program.variables known.implicit inside holds) spot (exit_of no_tracks condition holds) more raised g in
      (h.1, out holds h.0)

  -- A handler takes an exception, or it passes all of them (11.4).
  pub taken_from : (e : Exception) (hs : HandlersForm) (k : Control) (w : Ways) (holds : Holds) → Handling known hs k w holds → (handler_of e hs ≡ None → To (w.raised e) holds) → TakenBy known k w e (handler_of e hs) holds
  taken_from e no_handlers k w holds h none = none refl
  taken_from e (a_handler choices fs hs) k w holds (here, from, g, out, returns', spares) none =
      let v = known.program.variables in
      let among : Exception → Bool = λ x. handlers_raise effects (is_same x) (a_handler choices fs hs) in
      let two = either_goes (stmts_flow known.program.types v (around_at known here) fs holds) (handlers_flow known.program.types v (around_at known here) hs holds) (To w.normal) (Raised among w) (to_before w.normal) (raised_before among w) g in
      pick (some_takes e choices) (
        here,
        (λ way place at c. from (into ∷ way) place at (to_this c)),
        goes_map (stmts_flow known.program.types v (around_at known here) fs holds) (To w.normal) (Raised among w) (To w.normal) (Raised (λ x. stmts_raise effects (is_same x) fs) w) (λ h m. m)
            (λ h r. raised_less among (λ x. stmts_raise effects (is_same x) fs) w (λ x i. or_left (stmts_raise effects (is_same x) fs) (handlers_raise effects (is_same x) hs) i) h r) two.0,
        (λ b. out (or_left (have_exit fs) (handlers_have_exit hs) b)),
        returns',
        (λ t i. spares t (or_left (stmts_may t fs) (handlers_may t hs) i)),
      ) (λ past'. taken_from e hs k w holds (
        here,
        (λ way place at c. from (past ∷ way) place at (to_next c)),
        goes_map (handlers_flow known.program.types v (around_at known here) hs holds) (To w.normal) (Raised among w) (To w.normal) (Raised (λ x. handlers_raise effects (is_same x) hs) w) (λ h m. m)
            (λ h r. raised_less among (λ x. handlers_raise effects (is_same x) hs) w (λ x i. or_right (stmts_raise effects (is_same x) fs) (handlers_raise effects (is_same x) hs) i) h r) two.1,
        (λ b. out (or_right (have_exit fs) (handlers_have_exit hs) b)),
        returns',
        (λ t i. spares t (or_right (stmts_may t fs) (handlers_may t hs) i)),
      ) past') none
    where
      pick : (b : Bool) → Doing known fs k w holds → ((handler_of e hs ≡ None → To (w.raised e) holds) → TakenBy known k w e (handler_of e hs) holds) → ((if b then Some fs else handler_of e hs) ≡ None → To (w.raised e) holds) → TakenBy known k w e (if b then Some fs else handler_of e hs) holds
      pick true here more past' = here
      pick false here more past' = more past'

  -- Declarations come one after another.
  elaborates_from : (ds : List DeclarationForm) (holds : Holds) (more : Holds → Type 0) (among : Exception → Bool) (w : Ways) → ((e : Exception) → declarations_raise known.implicit (is_same e) ds ≡ true → among e ≡ true) → Goes (declarations_flow known.program.types known.program.variables no_tracks known.implicit ds holds) more (Raised among w) → Spares known (λ t. declarations_free known.implicit t ds) → Elaborating known ds more w holds
  elaborates_from [] holds more among w m g spares = g.0
  elaborates_from (d ∷ ds) holds more among w m g spares = (
    goes_map (declaration_flow known.program.types known.program.variables no_tracks known.implicit d holds) (λ h. Goes (declarations_flow known.program.types known.program.variables no_tracks known.implicit ds h) more (Raised among w)) (Raised among w) (Elaborating known ds more w) (Raised (λ e. declaration_raises known.implicit (is_same e) d) w)
        (λ h n. elaborates_from ds h more among w (λ e i. m e (or_right (declaration_raises known.implicit (is_same e) d) (declarations_raise known.implicit (is_same e) ds) i)) n (λ t i. spares t (or_right (declaration_frees known.implicit t d) (declarations_free known.implicit t ds) i)))
        (λ h r. raised_less among (λ e. declaration_raises known.implicit (is_same e) d) w (λ e i. m e (or_left (declaration_raises known.implicit (is_same e) d) (declarations_raise known.implicit (is_same e) ds) i)) h r)
        (then_goes (declaration_flow known.program.types known.program.variables no_tracks known.implicit d holds) (declarations_flow known.program.types known.program.variables no_tracks known.implicit ds) more (Raised among w) (raised_before among w) g),
    (λ t i. spares t (or_left (declaration_frees known.implicit t d) (declarations_free known.implicit t ds) i)),
  )

  -- What a part may raise: its declarations, its statements past their handlers, its handlers.
  pub record PartRaises (ds : List DeclarationForm) (fs : StmtsForm) (hs : HandlersForm) (among : Exception → Bool) : Type 0 where
    pub by_declarations : (e : Exception) → declarations_raise known.implicit (is_same e) ds ≡ true → among e ≡ true
    pub by_statements : (e : Exception) → stmts_raise effects (untaken hs (is_same e)) fs ≡ true → among e ≡ true
    pub by_handlers : (e : Exception) → handlers_raise effects (is_same e) hs ≡ true → among e ≡ true

  -- Declarations, the statements behind them, and their handlers, before a master is left.
  pub part_from : (inner : Where) (k : Control) (ds : List DeclarationForm) (fs : StmtsForm) (hs : HandlersForm) (o : Ways) (among : Exception → Bool) (holds : Holds) → PartRaises ds fs hs among
      → ((way : List Turning) (place : Control) (at : Holds) → ComesInside known.program.types known.program.variables (around_at known inner) k ds fs hs holds way place at → known.At place at)
      → Goes (then_flow (declarations_flow known.program.types known.program.variables no_tracks known.implicit ds holds) (λ at. handled (passes effects fs hs) (handlers_flow known.program.types known.program.variables (around_at known inner) hs) (stmts_flow known.program.types known.program.variables (around_at known inner) fs at))) (To o.normal) (Raised among o)
      → OnExit known.program.variables (have_exit fs) (around_at known inner) o.exited → OnExit known.program.variables (handlers_have_exit hs) (around_at known inner) o.exited → OnReturn known.program.variables (around_at known inner) o.returned
      → Spares known (λ t. stmts_may t fs) → Spares known (λ t. handlers_may t hs) → Spares known (λ t. declarations_free known.implicit t ds)
      → Elaborating known ds (Doing known fs (Handles hs ∷ Closes ∷ k) (Handled known hs (Closes ∷ k) o)) o holds
  part_from inner k ds fs hs o among holds p from g exits' exits'' returns' spares' spares'' first =
      let v = known.program.variables in
      let part : Holds → Outcome = λ at. handled (passes effects fs hs) (handlers_flow known.program.types v (around_at known inner) hs) (stmts_flow known.program.types v (around_at known inner) fs at) in
      elaborates_from ds holds (Doing known fs (Handles hs ∷ Closes ∷ k) (Handled known hs (Closes ∷ k) o)) among o p.by_declarations
      (goes_with (declarations_flow known.program.types v no_tracks known.implicit ds holds) (λ at. Goes (part at) (To o.normal) (Raised among o)) (Raised among o) (Doing known fs (Handles hs ∷ Closes ∷ k) (Handled known hs (Closes ∷ k) o)) (Raised among o)
      (λ at raising declared m. (
        inner,
        (λ way place at' c. from (into ∷ way) place at' (in_statements at declared c)),
        goes_with (stmts_flow known.program.types v (around_at known inner) fs at) (To o.normal) (λ h. (passes effects fs hs ≡ true → Raised among o h) × Goes (handlers_flow known.program.types v (around_at known inner) hs h) (To o.normal) (Raised among o)) (To (Handled known hs (Closes ∷ k) o).normal) (Raised (λ e. stmts_raise effects (is_same e) fs) (Handled known hs (Closes ∷ k) o))
            (λ h r is n. to_here (To o.normal) h n)
            (λ normal raised is n. λ e i. to_here ((Handled known hs (Closes ∷ k) o).raised e) raised (taken_from e hs (Closes ∷ k) o raised (
              inner,
              (λ way place at' c. from (past ∷ way) place at' (in_handlers at raised declared is c)),
              goes_map (handlers_flow known.program.types v (around_at known inner) hs raised) (To o.normal) (Raised among o) (To o.normal) (Raised (λ x. handlers_raise effects (is_same x) hs) o) (λ h x. x) (λ h r. raised_less among (λ x. handlers_raise effects (is_same x) hs) o p.by_handlers h r) n.1,
              exits'',
              returns',
              spares'',
            ) (λ none. n.0 (raises_past known.implicit known.program fs hs e none i) e (p.by_statements e (raises_untaken known.implicit known.program fs hs e none i)))))
            (handled_goes (passes effects fs hs) (handlers_flow known.program.types v (around_at known inner) hs) (stmts_flow known.program.types v (around_at known inner) fs at) (To o.normal) (Raised among o) (to_before o.normal) (raised_before among o) m),
        exits',
        returns',
        spares',
      ))
      (λ normal h is r. r)
      (then_goes (declarations_flow known.program.types v no_tracks known.implicit ds holds) part (To o.normal) (Raised among o) (raised_before among o) g)) first

  -- What leaves a block on its way behind a loop.
  exits_block : (gone inside : Gone) (start : Option Holds) (holds : Holds) → MayExit known.program.variables known.implicit start (gone_with_both gone inside) holds → MayExit known.program.variables known.implicit start inside (left_finalized known.program.variables known.implicit gone holds)
  exits_block gone inside None holds may = tt
  exits_block gone inside (Some start) holds may = rw (← finalized_twice known.program.variables known.implicit gone inside holds) may

  -- What leaves it by a return leaves the blocks around it, too.
  returns_block : (gone within : Gone) (owed : List ℕ) (holds : Holds) → MayReturn known.program.variables owed (gone_with_both gone within) holds → MayReturn known.program.variables owed within (left_finalized known.program.variables known.implicit gone holds)
  returns_block gone within owed holds may = freed_gives known.program.variables known.implicit gone within owed holds (rw (← left_twice known.program.variables gone within holds) may)

  -- A block begins with its declarations (5.6).
  pub encloses_from : (here : Where) (ds : List DeclarationForm) (body : StmtsForm) (hs : HandlersForm) (fs : StmtsForm) (k : Control) (w : Ways) (holds : Holds) → Starting here (encloses ds body hs) fs k w holds
      → Elaborating known ds (Doing known body (Handles hs ∷ Closes ∷ Does fs ∷ k) (Handled known hs (Closes ∷ Does fs ∷ k) (Outside known (gone_with ds) (Then fs k w)))) (Outside known (gone_with ds) (Then fs k w)) holds
  encloses_from here ds body hs fs k w holds (from, g, out, returns', spares) =
      let v = known.program.variables in
      let gone = gone_with ds in
      let may = endings_free known.implicit (gone_with ds).types in
      let inner : Where = record { start = here.start; inside = gone_with_both (gone_with ds) here.inside; within = gone_with_both (gone_with ds) here.within } in
      let o : Ways = Outside known (gone_with ds) (Then fs k w) in
      let ends : MayEnd known gone = λ t i. spares t (or_right (stmts_may t body || handlers_may t hs) (parts_may t ds) (or_right (declarations_free known.implicit t ds) (leaving_frees known.implicit t ds) (endings_leave known.implicit t ds i))) in
      let among : Exception → Bool = λ e. stmt_raises effects (is_same e) (encloses ds body hs) in
      let flow : Outcome = then_flow (declarations_flow known.program.types v no_tracks known.implicit ds holds) (λ at. handled (passes effects body hs) (handlers_flow known.program.types v (around_at known inner) hs) (stmts_flow known.program.types v (around_at known inner) body at)) in
      part_from inner (Does fs ∷ k) ds body hs o among holds
      (record {
        by_declarations = λ e i. or_left (declarations_raise known.implicit (is_same e) ds || stmts_raise effects (untaken hs (is_same e)) body) (handlers_raise effects (is_same e) hs) (or_left (declarations_raise known.implicit (is_same e) ds) (stmts_raise effects (untaken hs (is_same e)) body) i);
        by_statements = λ e i. or_left (declarations_raise known.implicit (is_same e) ds || stmts_raise effects (untaken hs (is_same e)) body) (handlers_raise effects (is_same e) hs) (or_right (declarations_raise known.implicit (is_same e) ds) (stmts_raise effects (untaken hs (is_same e)) body) i);
        by_handlers = λ e i. or_right (declarations_raise known.implicit (is_same e) ds || stmts_raise effects (untaken hs (is_same e)) body) (handlers_raise effects (is_same e) hs) i;
      })
      (λ way place at c. from (into ∷ way) place at (in_enclosed c))
      (goes_map flow (λ h. Doing known fs k w (left_finalized v known.implicit gone h)) (λ h. Raised among w (left_finalized v known.implicit gone h)) (To o.normal) (Raised among o)
      (λ h n. to_here o.normal h (ends, to_here (Then fs k w).normal (left_finalized v known.implicit gone h) n))
      (λ h r. λ e i. to_here (o.raised e) h (ends, r e i))
      (loses_goes v may flow (λ h. Doing known fs k w (left v gone h)) (λ h. Raised among w (left v gone h))
      (block_goes v gone (loses v may flow) (Doing known fs k w) (Raised among w) g)))
      (λ one h may. (let behind = left_finalized v known.implicit gone h in (ends, to_here w.exited behind (out (or_left (have_exit body) (handlers_have_exit hs) one) behind (exits_block gone here.inside here.start h may)))))
      (λ one h may. (let behind = left_finalized v known.implicit gone h in (ends, to_here w.exited behind (out (or_right (have_exit body) (handlers_have_exit hs) one) behind (exits_block gone here.inside here.start h may)))))
      (λ h may. (let behind = left_finalized v known.implicit gone h in (ends, to_here w.returned behind (returns' behind (returns_block gone here.within (owed_by known) h may)))))
      (λ t i. spares t (or_left (stmts_may t body || handlers_may t hs) (parts_may t ds) (or_left (stmts_may t body) (handlers_may t hs) i)))
      (λ t i. spares t (or_left (stmts_may t body || handlers_may t hs) (parts_may t ds) (or_right (stmts_may t body) (handlers_may t hs) i)))
      (λ t i. spares t (or_right (stmts_may t body || handlers_may t hs) (parts_may t ds) (or_left (declarations_free known.implicit t ds) (leaving_frees known.implicit t ds) i)))
