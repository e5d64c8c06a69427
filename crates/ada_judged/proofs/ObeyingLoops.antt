-- Loops as they are judged: what their starts hold.

use Rattle.std.proofs.Common.{◌≡◌, ℕ, Bool, List, [], ◌∷◌, Option, Some, refl, ap, ◌∙◌}
use Rattle.ada_text.specs.declared.spot.Spot.{Spot}
use Rattle.ada_program.specs.Form.{ExpressionForm, DeclarationForm, creates_pool, collects, declares, declares_record, StmtForm, skips, assigns, assigns_record, frees, gets, writes, writes_text, chooses, repeats, counts, exits, calls, returns, raises, encloses, StmtsForm, no_stmts, a_stmt, BranchesForm, otherwise, a_branch, HandlersForm, no_handlers, a_handler}
use Rattle.ada_program.specs.ProgramForm.{TypeForm, VariableForm}
use Rattle.ada_program.specs.WellFormed.{is_borrower, names_borrower}
use Rattle.ada_flow.specs.Tracking.{Tracks, seen, no_tracks}
use Rattle.ada_flow.specs.Flow.{Holds, Outcome, then_flow, condition_flow, moved_by_right, all_touched, touched_by_all, opened_target, opened_by, opened_by_all, opened_by_branches, opened_by_handlers, ends_turn, left_with, loop_flow}
use Rattle.ada_tracked.specs.Forms.{seen_condition, seen_right, seen_declarations, seen_stmt, seen_stmts, seen_branches, seen_handlers}
use Rattle.ada_judged.specs.Obeying.{ConditionIsOrderly, StatementIsOrderly, StatementsAreOrderly, BranchesAreOrderly, HandlersAreOrderly, StandForTracked, GoesAlike}
use Rattle.ada_judged.proofs.ObeyingPaths.{sees}
use Rattle.ada_judged.proofs.ObeyingExpressions.{condition_alike}
use Rattle.ada_judged.proofs.ObeyingOutcomes.{within_alike, then_alike}
use Rattle.ada_judged.proofs.ObeyingMoves.{right_moves_alike}
use Rattle.ada_judged.proofs.ObeyingKinds.{borrower_alike}

-- The end of a turn.
turn_alike : (start : Holds) (spot : Spot) (a b : Outcome) → GoesAlike a b → GoesAlike (ends_turn start spot a) (ends_turn start spot b)
turn_alike start spot a b h = within_alike (ends_turn start spot) (λ s rule normal raising e. cc) a b h

left_alike : (leaves : Bool) (start : Holds) (a b : Outcome) → GoesAlike a b → GoesAlike (left_with leaves start a) (left_with leaves start b)
left_alike leaves start a b h = within_alike (left_with leaves start) (λ s rule normal raising e. cc) a b h

-- A loop whose turns are alike.
pub loop_alike :
    (tracks : Tracks) (condition : Option ExpressionForm) (leaves : Bool) (spot : Spot) (turn other : Option Holds → Holds → Outcome) (start : Holds) → ConditionIsOrderly tracks condition
    → ((from : Option Holds) (holds : Holds) → GoesAlike (turn from holds) (other from holds))
    → GoesAlike (loop_flow tracks condition leaves spot turn start) (loop_flow no_tracks (seen_condition tracks condition) leaves spot other start)
loop_alike tracks condition leaves spot turn other start h each =
    left_alike leaves start (then_flow (condition_flow tracks condition start) (λ hs. ends_turn start spot (turn (Some start) hs)))
    (then_flow (condition_flow no_tracks (seen_condition tracks condition) start) (λ hs. ends_turn start spot (other (Some start) hs)))
    (then_alike (condition_flow tracks condition start) (condition_flow no_tracks (seen_condition tracks condition) start)
    (λ hs. ends_turn start spot (turn (Some start) hs)) (λ hs. ends_turn start spot (other (Some start) hs)) (condition_alike tracks condition start h)
    (λ hs. turn_alike start spot (turn (Some start) hs) (other (Some start) hs) (each (Some start) hs)))

module _ (types : List TypeForm) (variables : List VariableForm) (tracks : Tracks) (stand : StandForTracked types variables tracks) where
  touched_alike : (ds : List DeclarationForm) (holds : Holds) → touched_by_all variables no_tracks (seen_declarations tracks ds) holds ≡ touched_by_all variables tracks ds holds
  touched_alike [] holds = refl
  touched_alike (creates_pool p ∷ ds) holds = touched_alike ds holds
  touched_alike (collects access ∷ ds) holds = touched_alike ds holds
  touched_alike (declares x right ∷ ds) holds =
      ap (λ (xs : List ℕ). touched_by_all variables no_tracks (seen_declarations tracks ds) (all_touched xs holds)) (right_moves_alike tracks (is_borrower variables x) right)
      ∙ touched_alike ds (all_touched (moved_by_right tracks (is_borrower variables x) right) holds)
  touched_alike (declares_record x t initial ∷ ds) holds = touched_alike ds holds

  mutual
    opened_alike : (f : StmtForm) (holds : Holds) → StatementIsOrderly tracks f → opened_by variables no_tracks (seen_stmt tracks f) holds ≡ opened_by variables tracks f holds
    opened_alike skips holds h = refl
    opened_alike (assigns target right) holds h =
        let p = seen tracks target in
        ap (λ (b : Bool). opened_target variables p.selectors p.root (all_touched (moved_by_right no_tracks b (seen_right tracks right)) holds)) (borrower_alike types variables tracks stand target p (sees tracks target))
        ∙ ap (λ (xs : List ℕ). opened_target variables p.selectors p.root (all_touched xs holds)) (right_moves_alike tracks (names_borrower variables target) right)
    opened_alike (assigns_record target items) holds h = refl
    opened_alike (frees access path) holds h = refl
    opened_alike (gets target) holds h = refl
    opened_alike (writes e) holds h = refl
    opened_alike (writes_text text) holds h = refl
    opened_alike (chooses branches) holds h = branches_opened branches holds h
    opened_alike (repeats condition fs end_spot) holds h = all_opened fs holds h.1
    opened_alike (counts x low high fs end_spot) holds h = all_opened fs holds h.3
    opened_alike (exits condition spot) holds h = refl
    opened_alike (calls procedure actuals) holds h = absurd h
    opened_alike (returns spot) holds h = refl
    opened_alike (raises e) holds h = refl
    opened_alike (encloses ds fs hs) holds h =
        ap (λ (at : Holds). opened_by_handlers variables no_tracks (seen_handlers tracks hs) (opened_by_all variables no_tracks (seen_stmts tracks fs) at)) (touched_alike ds holds)
        ∙ ap (opened_by_handlers variables no_tracks (seen_handlers tracks hs)) (all_opened fs (touched_by_all variables tracks ds holds) h.1)
        ∙ handlers_opened hs (opened_by_all variables tracks fs (touched_by_all variables tracks ds holds)) h.2

    pub all_opened : (fs : StmtsForm) (holds : Holds) → StatementsAreOrderly tracks fs → opened_by_all variables no_tracks (seen_stmts tracks fs) holds ≡ opened_by_all variables tracks fs holds
    all_opened no_stmts holds h = refl
    all_opened (a_stmt f fs) holds h =
        ap (opened_by_all variables no_tracks (seen_stmts tracks fs)) (opened_alike f holds h.0) ∙ all_opened fs (opened_by variables tracks f holds) h.1

    branches_opened : (bs : BranchesForm) (holds : Holds) → BranchesAreOrderly tracks bs → opened_by_branches variables no_tracks (seen_branches tracks bs) holds ≡ opened_by_branches variables tracks bs holds
    branches_opened (otherwise fs) holds h = all_opened fs holds h
    branches_opened (a_branch e fs bs) holds h =
        ap (opened_by_branches variables no_tracks (seen_branches tracks bs)) (all_opened fs holds h.1) ∙ branches_opened bs (opened_by_all variables tracks fs holds) h.2

    handlers_opened : (hs : HandlersForm) (holds : Holds) → HandlersAreOrderly tracks hs → opened_by_handlers variables no_tracks (seen_handlers tracks hs) holds ≡ opened_by_handlers variables tracks hs holds
    handlers_opened no_handlers holds h = refl
    handlers_opened (a_handler choices fs hs) holds h =
        ap (opened_by_handlers variables no_tracks (seen_handlers tracks hs)) (all_opened fs holds h.0) ∙ handlers_opened hs (opened_by_all variables tracks fs holds) h.1
