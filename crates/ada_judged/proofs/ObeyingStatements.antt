-- Statements and declarations as they are judged go through where they do with tracked components.

use Rattle.std.proofs.Common.{◌≡◌, Bool, true, false, List, [], ◌∷◌, Option, Some, None, refl, sym, subst}
use Rattle.std.specs.List.{slice_set}
use Rattle.ada_text.specs.declared.spot.Spot.{Spot}
use Rattle.ada_program.specs.Form.{ExpressionForm, RightForm, nothing, value_of, allocates, allocates_default, computes, DeclarationForm, creates_pool, collects, declares, declares_record, StmtForm, skips, assigns, assigns_record, frees, gets, writes, writes_text, chooses, repeats, counts, exits, calls, returns, raises, encloses, StmtsForm, no_stmts, a_stmt, BranchesForm, otherwise, a_branch, HandlersForm, no_handlers, a_handler}
use Rattle.ada_program.specs.ProgramForm.{TypeForm, VariableForm}
use Rattle.ada_program.specs.WellFormed.{is_borrower}
use Rattle.ada_effects.specs.Effects.{Implicit, assignment_frees, passes}
use Rattle.ada_flow.specs.declared.rule.Hold.TheVariants.{Lost}
use Rattle.ada_flow.specs.Tracking.{Tracks, no_tracks}
use Rattle.ada_flow.specs.Flow.{Holds, Outcome, goes, then_flow, ends_with, computed, gives, begins_pair, either_of, opened_by_all, loop_flow, is_left, Gone, gone_with, leaves_finalized, handled, Around, in_loop, in_block, exit_of, left_finalized, exit_flow, declared_at, declaration_flow, declarations_flow, bounds_flow, counting_start, return_flow, stmt_flow, stmts_flow, branches_flow, handlers_flow}
use Rattle.ada_tracked.specs.Forms.{seen_expression, seen_condition, seen_right, seen_declaration, seen_declarations, seen_stmt, seen_stmts, seen_branches, seen_handlers}
use Rattle.ada_judged.specs.Obeying.{ExpressionIsOrderly, ConditionIsOrderly, DeclarationIsOrderly, DeclarationsAreOrderly, StatementIsOrderly, StatementsAreOrderly, BranchesAreOrderly, HandlersAreOrderly, StandForTracked, GoesAlike, around_judged}
use Rattle.ada_judged.proofs.ObeyingExpressions.{same_outcome, computed_alike, exit_alike}
use Rattle.ada_judged.proofs.ObeyingOutcomes.{within_alike, then_alike, either_alike, handled_alike, unless_worse_alike}
use Rattle.ada_judged.proofs.ObeyingMoves.{to_none, IsCleared, gives_alike}
use Rattle.ada_judged.proofs.ObeyingAssignments.{initializes_alike, frees_alike, gets_alike, assigns_alike}
use Rattle.ada_judged.proofs.ObeyingRecords.{gives_record_alike}
use Rattle.ada_judged.proofs.ObeyingForms.{pair_seen, is_left_alike, gone_alike, passes_alike}
use Rattle.ada_judged.proofs.ObeyingLoops.{loop_alike, all_opened}

module _ (types : List TypeForm) (variables : List VariableForm) (tracks : Tracks) (stand : StandForTracked types variables tracks) where
  -- Declarations.
  uncleared : (right : RightForm) → IsCleared tracks right false false
  uncleared nothing = tt
  uncleared (value_of path) = λ e ends. e
  uncleared (allocates access items) = tt
  uncleared (allocates_default access) = tt
  uncleared (computes e) = tt

  declaration_alike : (implicit : Implicit) (d : DeclarationForm) (holds : Holds) → DeclarationIsOrderly tracks d → GoesAlike (declaration_flow types variables tracks implicit d holds) (declaration_flow types variables no_tracks implicit (seen_declaration tracks d) holds)
  declaration_alike implicit (creates_pool p) holds h = same_outcome (ends_with false holds holds) (ends_with false holds holds) refl
  declaration_alike implicit (collects access) holds h = same_outcome (ends_with false holds holds) (ends_with false holds holds) refl
  declaration_alike implicit (declares x right) holds h =
      initializes_alike tracks variables implicit right (gives types variables tracks (declared_at variables x) false x right holds)
      (gives types variables no_tracks (declared_at variables x) false x (seen_right tracks right) holds)
      (gives_alike tracks types (declared_at variables x) (is_borrower variables x) false false None None x right holds (to_none tracks) h.1 (uncleared right))
  declaration_alike implicit (declares_record x t initial) holds h = absurd h

  pub declarations_alike :
      (implicit : Implicit) (ds : List DeclarationForm) (holds : Holds) → DeclarationsAreOrderly tracks ds
      → GoesAlike (declarations_flow types variables tracks implicit ds holds) (declarations_flow types variables no_tracks implicit (seen_declarations tracks ds) holds)
  declarations_alike implicit [] holds h = same_outcome (ends_with false holds holds) (ends_with false holds holds) refl
  declarations_alike implicit (d ∷ ds) holds h =
      then_alike (declaration_flow types variables tracks implicit d holds) (declaration_flow types variables no_tracks implicit (seen_declaration tracks d) holds)
      (declarations_flow types variables tracks implicit ds) (declarations_flow types variables no_tracks implicit (seen_declarations tracks ds))
      (declaration_alike implicit d holds h.0) (λ hs. declarations_alike implicit ds hs h.1)

  -- Bounds and exits.
  bounds_alike : (low high : ExpressionForm) (holds : Holds) → ExpressionIsOrderly tracks low → ExpressionIsOrderly tracks high → GoesAlike (bounds_flow tracks low high holds) (bounds_flow no_tracks (seen_expression tracks low) (seen_expression tracks high) holds)
  bounds_alike low high holds h g =
      then_alike (computed tracks low holds) (computed no_tracks (seen_expression tracks low) holds) (computed tracks high) (computed no_tracks (seen_expression tracks high))
      (computed_alike tracks low holds h) (λ hs. computed_alike tracks high hs g)

  exits_alike :
      (implicit : Implicit) (start : Option Holds) (inside : Gone) (condition : Option ExpressionForm) (spot : Spot) (holds : Holds) → ConditionIsOrderly tracks condition
      → GoesAlike (exit_flow variables tracks implicit start inside condition spot holds) (exit_flow variables no_tracks implicit start inside (seen_condition tracks condition) spot holds)
  exits_alike implicit None inside condition spot holds h = exit_alike tracks condition holds h
  exits_alike implicit (Some start) inside condition spot holds h =
      unless_worse_alike start (left_finalized variables implicit inside holds) spot (exit_of tracks condition holds) (exit_of no_tracks (seen_condition tracks condition) holds) (exit_alike tracks condition holds h)

  -- Where these components are tracked.
  abbrev here : Around → Around
  here around = record around { tracks = tracks }

  -- A block, or a body behind which this is gone, whose parts are alike.
  pub block_alike :
      (around : Around) (ds : List DeclarationForm) (fs : StmtsForm) (hs : HandlersForm) (holds : Holds) → DeclarationsAreOrderly tracks ds → StatementsAreOrderly tracks fs
      → (statements : (a : Around) (at : Holds) → GoesAlike (stmts_flow types variables (here a) fs at) (stmts_flow types variables (around_judged a) (seen_stmts tracks fs) at))
      → (handlers : (a : Around) (at : Holds) → GoesAlike (handlers_flow types variables (here a) hs at) (handlers_flow types variables (around_judged a) (seen_handlers tracks hs) at))
      → (implicit : Implicit)
      → GoesAlike
      (then_flow (declarations_flow types variables tracks implicit ds holds)
      (λ at. handled (passes around.effects fs hs) (handlers_flow types variables (here around) hs) (stmts_flow types variables (here around) fs at)))
      (then_flow (declarations_flow types variables no_tracks implicit (seen_declarations tracks ds) holds)
      (λ at. handled (passes around.effects (seen_stmts tracks fs) (seen_handlers tracks hs)) (handlers_flow types variables (around_judged around) (seen_handlers tracks hs)) (stmts_flow types variables (around_judged around) (seen_stmts tracks fs) at)))
  block_alike around ds fs hs holds h g statements handlers implicit =
      let real = then_flow (declarations_flow types variables tracks implicit ds holds)
      (λ at. handled (passes around.effects fs hs) (handlers_flow types variables (here around) hs) (stmts_flow types variables (here around) fs at)) in
      let judged = λ (p : Bool). then_flow (declarations_flow types variables no_tracks implicit (seen_declarations tracks ds) holds)
      (λ at. handled p (handlers_flow types variables (around_judged around) (seen_handlers tracks hs)) (stmts_flow types variables (around_judged around) (seen_stmts tracks fs) at)) in
      subst (λ (p : Bool). GoesAlike real (judged p)) (sym (passes_alike tracks around.effects fs hs g))
      (then_alike (declarations_flow types variables tracks implicit ds holds) (declarations_flow types variables no_tracks implicit (seen_declarations tracks ds) holds)
      (λ at. handled (passes around.effects fs hs) (handlers_flow types variables (here around) hs) (stmts_flow types variables (here around) fs at))
      (λ at. handled (passes around.effects fs hs) (handlers_flow types variables (around_judged around) (seen_handlers tracks hs)) (stmts_flow types variables (around_judged around) (seen_stmts tracks fs) at))
      (declarations_alike implicit ds holds h)
      (λ at. handled_alike (passes around.effects fs hs) (handlers_flow types variables (here around) hs) (handlers_flow types variables (around_judged around) (seen_handlers tracks hs))
      (stmts_flow types variables (here around) fs at) (stmts_flow types variables (around_judged around) (seen_stmts tracks fs) at) (handlers around) (statements around at)))

  -- Where a statement begins a take pair, it does as it is judged.
  abbrev IsPaired : StmtForm → (cleared other : Bool) → Type 0
  IsPaired (assigns target right) cleared other = IsCleared tracks right cleared other
  IsPaired f cleared other = Unit {0}

  pair_alike : (f : StmtForm) (fs : StmtsForm) → StatementIsOrderly tracks f → IsPaired f (begins_pair f fs) (begins_pair (seen_stmt tracks f) (seen_stmts tracks fs))
  pair_alike (assigns target right) fs h = pair_seen tracks target right fs h.0 h.1
  pair_alike f fs h = tt

  leaves_alike :
      (implicit : Implicit) (gone judged : Gone) (a : Outcome) (b : Gone → Outcome) → judged ≡ gone → GoesAlike a (b gone)
      → GoesAlike (leaves_finalized variables implicit gone a) (leaves_finalized variables implicit judged (b judged))
  leaves_alike implicit gone judged a b e h =
      subst (λ (g : Gone). GoesAlike (leaves_finalized variables implicit gone a) (leaves_finalized variables implicit g (b g))) (sym e)
      (within_alike (leaves_finalized variables implicit gone) (λ spot rule normal raising k. cc) a (b gone) h)

  mutual
    stmt_alike :
        (f : StmtForm) (around : Around) (cleared other : Bool) (holds : Holds) → StatementIsOrderly tracks f → IsPaired f cleared other
        → GoesAlike (stmt_flow types variables (here around) cleared f holds) (stmt_flow types variables (around_judged around) other (seen_stmt tracks f) holds)
    stmt_alike skips around cleared other holds h p = same_outcome (ends_with false holds holds) (ends_with false holds holds) refl
    stmt_alike (assigns target right) around cleared other holds h p = assigns_alike types variables tracks stand around.effects.implicit cleared other target right holds h.0 h.1 p
    stmt_alike (assigns_record target items) around cleared other holds h p =
        gives_record_alike types variables tracks stand (λ t. assignment_frees around.effects.implicit t target.record_type) target items holds h.0 h.1
    stmt_alike (frees access path) around cleared other holds h p = frees_alike types variables tracks stand around.effects.implicit path holds h
    stmt_alike (gets target) around cleared other holds h p = gets_alike types variables tracks stand target holds h.1
    stmt_alike (writes e) around cleared other holds h p = computed_alike tracks e holds h
    stmt_alike (writes_text text) around cleared other holds h p = same_outcome (ends_with false holds holds) (ends_with false holds holds) refl
    stmt_alike (chooses branches) around cleared other holds h p = branches_alike branches around holds h
    stmt_alike (repeats condition fs end_spot) around cleared other holds h p =
        let turn = λ (start : Option Holds) (hs : Holds). stmts_flow types variables (in_loop start (here around)) fs hs in
        let judged = λ (start : Option Holds) (hs : Holds). stmts_flow types variables (in_loop start (around_judged around)) (seen_stmts tracks fs) hs in
        let real = loop_flow tracks condition (is_left condition fs) end_spot turn (opened_by_all variables tracks fs holds) in
        subst (λ (b : Bool). GoesAlike real (loop_flow no_tracks (seen_condition tracks condition) b end_spot judged (opened_by_all variables no_tracks (seen_stmts tracks fs) holds))) (sym (is_left_alike tracks condition fs))
        (subst (λ (start : Holds). GoesAlike real (loop_flow no_tracks (seen_condition tracks condition) (is_left condition fs) end_spot judged start)) (sym (all_opened types variables tracks stand fs holds h.1))
        (loop_alike tracks condition (is_left condition fs) end_spot turn judged (opened_by_all variables tracks fs holds) h.0
        (λ start hs. stmts_alike fs (in_loop start around) hs h.1)))
    stmt_alike (counts x low high fs end_spot) around cleared other holds h p =
        let turn = λ (start : Option Holds) (hs : Holds). stmts_flow types variables (in_loop start (here around)) fs hs in
        let judged = λ (start : Option Holds) (hs : Holds). stmts_flow types variables (in_loop start (around_judged around)) (seen_stmts tracks fs) hs in
        then_alike (bounds_flow tracks low high holds) (bounds_flow no_tracks (seen_expression tracks low) (seen_expression tracks high) holds)
        (λ hs. loop_flow tracks None true end_spot turn (counting_start variables tracks x fs hs)) (λ hs. loop_flow no_tracks None true end_spot judged (counting_start variables no_tracks x (seen_stmts tracks fs) hs))
        (bounds_alike low high holds h.1 h.2)
        (λ hs. subst (λ (start : Holds). GoesAlike (loop_flow tracks None true end_spot turn (counting_start variables tracks x fs hs)) (loop_flow no_tracks None true end_spot judged (slice_set start x Lost)))
        (sym (all_opened types variables tracks stand fs hs h.3))
        (loop_alike tracks None true end_spot turn judged (counting_start variables tracks x fs hs) tt (λ start at. stmts_alike fs (in_loop start around) at h.3)))
    stmt_alike (exits condition spot) around cleared other holds h p = exits_alike around.effects.implicit around.start around.inside condition spot holds h
    stmt_alike (calls procedure actuals) around cleared other holds h p = absurd h
    stmt_alike (returns spot) around cleared other holds h p =
        same_outcome (return_flow variables around.owed around.within spot holds) (return_flow variables around.owed around.within spot holds) refl
    stmt_alike (raises e) around cleared other holds h p = same_outcome (goes None (Some holds)) (goes None (Some holds)) refl
    stmt_alike (encloses ds fs hs) around cleared other holds h p =
        leaves_alike around.effects.implicit (gone_with ds) (gone_with (seen_declarations tracks ds))
        (then_flow (declarations_flow types variables tracks around.effects.implicit ds holds)
        (λ at. handled (passes around.effects fs hs) (handlers_flow types variables (in_block (gone_with ds) (here around)) hs)
        (stmts_flow types variables (in_block (gone_with ds) (here around)) fs at)))
        (λ gone. then_flow (declarations_flow types variables no_tracks around.effects.implicit (seen_declarations tracks ds) holds)
        (λ at. handled (passes around.effects (seen_stmts tracks fs) (seen_handlers tracks hs)) (handlers_flow types variables (in_block gone (around_judged around)) (seen_handlers tracks hs))
        (stmts_flow types variables (in_block gone (around_judged around)) (seen_stmts tracks fs) at)))
        (gone_alike tracks ds)
        (block_alike (in_block (gone_with ds) around) ds fs hs holds h.0 h.1 (λ a at. stmts_alike fs a at h.1) (λ a at. handlers_alike hs a at h.2) around.effects.implicit)

    pub stmts_alike :
        (fs : StmtsForm) (around : Around) (holds : Holds) → StatementsAreOrderly tracks fs
        → GoesAlike (stmts_flow types variables (here around) fs holds) (stmts_flow types variables (around_judged around) (seen_stmts tracks fs) holds)
    stmts_alike no_stmts around holds h = same_outcome (ends_with false holds holds) (ends_with false holds holds) refl
    stmts_alike (a_stmt f fs) around holds h =
        then_alike (stmt_flow types variables (here around) (begins_pair f fs) f holds)
        (stmt_flow types variables (around_judged around) (begins_pair (seen_stmt tracks f) (seen_stmts tracks fs)) (seen_stmt tracks f) holds)
        (stmts_flow types variables (here around) fs) (stmts_flow types variables (around_judged around) (seen_stmts tracks fs))
        (stmt_alike f around (begins_pair f fs) (begins_pair (seen_stmt tracks f) (seen_stmts tracks fs)) holds h.0 (pair_alike f fs h.0))
        (λ hs. stmts_alike fs around hs h.1)

    pub branches_alike :
        (bs : BranchesForm) (around : Around) (holds : Holds) → BranchesAreOrderly tracks bs
        → GoesAlike (branches_flow types variables (here around) bs holds) (branches_flow types variables (around_judged around) (seen_branches tracks bs) holds)
    branches_alike (otherwise fs) around holds h = stmts_alike fs around holds h
    branches_alike (a_branch e fs bs) around holds h =
        then_alike (computed tracks e holds) (computed no_tracks (seen_expression tracks e) holds)
        (λ hs. either_of (stmts_flow types variables (here around) fs hs) (branches_flow types variables (here around) bs hs))
        (λ hs. either_of (stmts_flow types variables (around_judged around) (seen_stmts tracks fs) hs) (branches_flow types variables (around_judged around) (seen_branches tracks bs) hs))
        (computed_alike tracks e holds h.0)
        (λ hs. either_alike (stmts_flow types variables (here around) fs hs) (stmts_flow types variables (around_judged around) (seen_stmts tracks fs) hs)
        (branches_flow types variables (here around) bs hs) (branches_flow types variables (around_judged around) (seen_branches tracks bs) hs)
        (stmts_alike fs around hs h.1) (branches_alike bs around hs h.2))

    pub handlers_alike :
        (hs : HandlersForm) (around : Around) (holds : Holds) → HandlersAreOrderly tracks hs
        → GoesAlike (handlers_flow types variables (here around) hs holds) (handlers_flow types variables (around_judged around) (seen_handlers tracks hs) holds)
    handlers_alike no_handlers around holds h = same_outcome (goes None None) (goes None None) refl
    handlers_alike (a_handler choices fs hs) around holds h =
        either_alike (stmts_flow types variables (here around) fs holds) (stmts_flow types variables (around_judged around) (seen_stmts tracks fs) holds)
        (handlers_flow types variables (here around) hs holds) (handlers_flow types variables (around_judged around) (seen_handlers tracks hs) holds)
        (stmts_alike fs around holds h.0) (handlers_alike hs around holds h.1)
