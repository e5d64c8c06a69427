-- How forms end, one after another, by what is noted of where they raise exceptions.

use Rattle.std.proofs.Common.{◌≡◌, Bool, true, false, List, [], ◌∷◌, ◌≤◌, length, arith, Option, Some, None, refl, sym, ap, ◌∙◌}
use Rattle.std.specs.Prelude.{Result, Ok, Err, if◌then◌else◌}
use Rattle.ada_text.specs.declared.spot.Spot.{Spot}
use Rattle.ada_effects.specs.Effects.{Implicit, passes}
use Rattle.ada_program.specs.declared.program.Choice.{Choice}
use Rattle.ada_program.specs.declared.program.Handler.{Handler}
use Rattle.ada_flow.specs.declared.rule.Rule.{Rule}
use Rattle.ada_flow.specs.declared.rule.Rule.TheVariants.{LoopState}
use Rattle.ada_flow.specs.Flow.{Holds, Outcome, faults, goes, Gone, Around, begins_pair, join_option, either_of, also_raises, then_flow, computed, stmt_flow, stmts_flow, branches_flow, handlers_flow, handled, leaves_finalized, raising_if, left_with, ends_turn, unless_worse, are_as_good, condition_flow, loop_flow, in_loop, in_block, gone_with, declaration_flow, declarations_flow}
use Rattle.ada_flow.specs.Told.{Noted, unwanted, wanted, also_noted, finalized_option, noted_behind, emptied, ending, end_handled, joined_end, noted_for}
use Rattle.ada_flow.proofs.Joined.{join_option_of_three, join_option_none}
use Rattle.ada_program.specs.Form.{StmtForm, StmtsForm, a_stmt, BranchesForm, a_branch, ExpressionForm, HandlersForm, no_handlers, a_handler, DeclarationForm, encloses, handlers_form}
use Rattle.ada_program.specs.ProgramForm.{TypeForm, VariableForm}
use Rattle.ada_flow.specs.Tracking.{Tracks}

-- how a form ends, as data
abbrev pub End : Type 0
End = Result (Option Holds × Noted) (Spot × Rule)

-- where nothing is raised, nothing is noted
pub nothing_noted : (n : Noted) → also_noted n None ≡ n
nothing_noted unwanted = refl
nothing_noted (wanted before) = ap wanted (join_option_none before)

-- what two forms raise is noted in turn
pub noted_twice : (n : Noted) (a b : Option Holds) → also_noted n (join_option a b) ≡ also_noted (also_noted n a) b
noted_twice unwanted a b = refl
noted_twice (wanted before) a b = ap wanted (sym (join_option_of_three before a b))

-- where there is a handler, all is noted
pub noted_for_some : (n : Noted) (hs : List Handler) → 1 ≤ length hs → noted_for n (handlers_form hs) ≡ wanted None
noted_for_some (wanted before) hs some = refl
noted_for_some unwanted [] some = absurd (omega arith)
noted_for_some unwanted (h ∷ hs) some = refl

-- what is raised before a form
raised_before : (n : Noted) (raising : Option Holds) (o : Outcome) → ending n (also_raises raising o) ≡ ending (also_noted n raising) o
raised_before n raising (faults spot rule) = refl
raised_before n raising (goes normal more) = ap (λ m. Ok (normal, m)) (noted_twice n raising more)

-- how another form ends behind this end
abbrev pub end_on : Option Holds → Noted → (Holds → Outcome) → End
end_on None n more = Ok (None, n)
end_on (Some holds) n more = ending n (more holds)

abbrev pub then_end : End → (Holds → Outcome) → End
then_end (Err breach) more = Err breach
then_end (Ok end) more = end_on end.0 end.1 more

pub then_ends : (n : Noted) (o : Outcome) (more : Holds → Outcome) → ending n (then_flow o more) ≡ then_end (ending n o) more
then_ends n (faults spot rule) more = refl
then_ends n (goes None raising) more = refl
then_ends n (goes (Some holds) raising) more = raised_before n raising (more holds)

-- two ways
abbrev pub either_end : End → (Noted → End) → End
either_end (Err breach) other = Err breach
either_end (Ok end) other = joined_end end.0 (other end.1)

pub either_ends : (n : Noted) (a b : Outcome) → ending n (either_of a b) ≡ either_end (ending n a) (λ m. ending m b)
either_ends n (faults spot rule) b = refl
either_ends n (goes normal raising) (faults spot rule) = refl
either_ends n (goes normal raising) (goes other other_raising) = ap (λ m. Ok (join_option normal other, m)) (noted_twice n raising other_raising)

-- ways join in any order
joined_twice : (a b : Option Holds) (end : End) → joined_end (join_option a b) end ≡ joined_end a (joined_end b end)
joined_twice a b (Err breach) = refl
joined_twice a b (Ok end) = ap (λ h. Ok (h, end.1)) (join_option_of_three a b end.0)

-- before any way, nothing is joined
pub joined_to_none : (end : End) → joined_end None end ≡ end
joined_to_none (Err breach) = refl
joined_to_none (Ok end) = refl

-- statements end as the first, or else as the others
pub statements_end : (n : Noted) (types : List TypeForm) (variables : List VariableForm) (around : Around) (f : StmtForm) (fs : StmtsForm) (holds : Holds) →
    ending n (stmts_flow types variables around (a_stmt f fs) holds) ≡ then_end (ending n (stmt_flow types variables around (begins_pair f fs) f holds)) (stmts_flow types variables around fs)
statements_end n types variables around f fs holds = then_ends n (stmt_flow types variables around (begins_pair f fs) f holds) (stmts_flow types variables around fs)

-- an `if` ends as its first branch behind its condition, joined with the others
abbrev pub branch_end : (so_far : Option Holds) (types : List TypeForm) (variables : List VariableForm) (around : Around) → StmtsForm → BranchesForm → End → End
branch_end so_far types variables around fs branches (Err breach) = Err breach
branch_end so_far types variables around fs branches (Ok end) =
    joined_end so_far (end_on end.0 end.1 (λ hs. either_of (stmts_flow types variables around fs hs) (branches_flow types variables around branches hs)))

pub branches_end : (so_far : Option Holds) (n m k : Noted) (types : List TypeForm) (variables : List VariableForm) (around : Around) (e : ExpressionForm) (fs : StmtsForm) (branches : BranchesForm) (holds : Holds) (end : Option Holds) →
    ending n (computed around.tracks e holds) ≡ Ok (Some holds, m) → ending m (stmts_flow types variables around fs holds) ≡ Ok (end, k) →
    joined_end so_far (ending n (branches_flow types variables around (a_branch e fs branches) holds))
    ≡ joined_end (join_option so_far end) (ending k (branches_flow types variables around branches holds))
branches_end so_far n m k types variables around e fs branches holds end computes ends =
    ap (joined_end so_far) (then_ends n (computed around.tracks e holds) (λ hs. either_of (stmts_flow types variables around fs hs) (branches_flow types variables around branches hs))
    ∙ ap (λ o. then_end o (λ hs. either_of (stmts_flow types variables around fs hs) (branches_flow types variables around branches hs))) computes
    ∙ either_ends m (stmts_flow types variables around fs holds) (branches_flow types variables around branches holds)
    ∙ ap (λ o. either_end o (λ x. ending x (branches_flow types variables around branches holds))) ends)
    ∙ sym (joined_twice so_far end (ending k (branches_flow types variables around branches holds)))

pub branches_break : (so_far : Option Holds) (n m : Noted) (types : List TypeForm) (variables : List VariableForm) (around : Around) (e : ExpressionForm) (fs : StmtsForm) (branches : BranchesForm) (holds : Holds) (breach : Spot × Rule) →
    ending n (computed around.tracks e holds) ≡ Ok (Some holds, m) → ending m (stmts_flow types variables around fs holds) ≡ Err breach →
    joined_end so_far (ending n (branches_flow types variables around (a_branch e fs branches) holds)) ≡ Err breach
branches_break so_far n m types variables around e fs branches holds breach computes breaks =
    ap (joined_end so_far) (then_ends n (computed around.tracks e holds) (λ hs. either_of (stmts_flow types variables around fs hs) (branches_flow types variables around branches hs))
    ∙ ap (λ o. then_end o (λ hs. either_of (stmts_flow types variables around fs hs) (branches_flow types variables around branches hs))) computes
    ∙ either_ends m (stmts_flow types variables around fs holds) (branches_flow types variables around branches holds)
    ∙ ap (λ o. either_end o (λ x. ending x (branches_flow types variables around branches holds))) breaks)

pub condition_breaks : (so_far : Option Holds) (n : Noted) (types : List TypeForm) (variables : List VariableForm) (around : Around) (e : ExpressionForm) (fs : StmtsForm) (branches : BranchesForm) (holds : Holds) (breach : Spot × Rule) →
    ending n (computed around.tracks e holds) ≡ Err breach →
    joined_end so_far (ending n (branches_flow types variables around (a_branch e fs branches) holds)) ≡ Err breach
condition_breaks so_far n types variables around e fs branches holds breach breaks =
    ap (joined_end so_far) (then_ends n (computed around.tracks e holds) (λ hs. either_of (stmts_flow types variables around fs hs) (branches_flow types variables around branches hs))
    ∙ ap (λ o. then_end o (λ hs. either_of (stmts_flow types variables around fs hs) (branches_flow types variables around branches hs))) breaks)

-- handlers end as the first, joined with the others
pub handlers_end : (so_far : Option Holds) (n k : Noted) (types : List TypeForm) (variables : List VariableForm) (around : Around) (choices : List Choice) (fs : StmtsForm) (hs : HandlersForm) (raising : Holds) (end : Option Holds) →
    ending n (stmts_flow types variables around fs raising) ≡ Ok (end, k) →
    joined_end so_far (ending n (handlers_flow types variables around (a_handler choices fs hs) raising))
    ≡ joined_end (join_option so_far end) (ending k (handlers_flow types variables around hs raising))
handlers_end so_far n k types variables around choices fs hs raising end ends =
    ap (joined_end so_far) (either_ends n (stmts_flow types variables around fs raising) (handlers_flow types variables around hs raising)
    ∙ ap (λ o. either_end o (λ m. ending m (handlers_flow types variables around hs raising))) ends)
    ∙ sym (joined_twice so_far end (ending k (handlers_flow types variables around hs raising)))

pub handlers_break : (so_far : Option Holds) (n : Noted) (types : List TypeForm) (variables : List VariableForm) (around : Around) (choices : List Choice) (fs : StmtsForm) (hs : HandlersForm) (raising : Holds) (breach : Spot × Rule) →
    ending n (stmts_flow types variables around fs raising) ≡ Err breach →
    joined_end so_far (ending n (handlers_flow types variables around (a_handler choices fs hs) raising)) ≡ Err breach
handlers_break so_far n types variables around choices fs hs raising breach breaks =
    ap (joined_end so_far) (either_ends n (stmts_flow types variables around fs raising) (handlers_flow types variables around hs raising)
    ∙ ap (λ o. either_end o (λ m. ending m (handlers_flow types variables around hs raising))) breaks)

-- a block that is left, with which this goes
abbrev pub left_end : Noted → List VariableForm → Implicit → (gone : Gone) → End → End
left_end n variables implicit gone (Err breach) = Err breach
left_end n variables implicit gone (Ok end) = Ok (finalized_option variables implicit gone end.0, noted_behind n variables implicit gone end.1)

pub block_ends : (n : Noted) (variables : List VariableForm) (implicit : Implicit) (gone : Gone) (o : Outcome) →
    ending n (leaves_finalized variables implicit gone o) ≡ left_end n variables implicit gone (ending (emptied n) o)
block_ends unwanted variables implicit gone (faults spot rule) = refl
block_ends unwanted variables implicit gone (goes normal raising) = refl
block_ends (wanted before) variables implicit gone (faults spot rule) = refl
block_ends (wanted before) variables implicit gone (goes normal raising) = refl

-- a loop that is left, or is not
abbrev pub left_over : Bool → Holds → End → End
left_over leaves start (Err breach) = Err breach
left_over leaves start (Ok end) = Ok ((if leaves then Some start else None), end.1)

left_ends : (n : Noted) (leaves : Bool) (start : Holds) (o : Outcome) → ending n (left_with leaves start o) ≡ left_over leaves start (ending n o)
left_ends n leaves start (faults spot rule) = refl
left_ends n leaves start (goes normal raising) = refl

abbrev normal_of : End → Option Holds
normal_of (Err breach) = None
normal_of (Ok end) = end.0

turn_keeps : (n k : Noted) (start : Holds) (spot : Spot) (b : Bool) (holds after : Holds) (raising : Option Holds) → are_as_good holds start ≡ b →
    ending n (goes (Some holds) raising) ≡ Ok (Some after, k) → unless_worse start after spot (goes (Some after) None) ≡ goes (Some after) None →
    ending n (if b then goes (Some holds) raising else faults spot LoopState) ≡ Ok (Some after, k)
turn_keeps n k start spot true holds after raising e ends keeps = ends
turn_keeps n k start spot false holds after raising e ends keeps =
    let one : Some holds ≡ Some after = ap normal_of ends in
    let same : holds ≡ after = cc in
    let worse : are_as_good after start ≡ false = ap (λ hs. are_as_good hs start) (sym same) ∙ e in
    let broken : faults spot LoopState ≡ goes (Some after) None =
    ap (λ c. if c then goes (Some after) None else faults spot LoopState) (sym worse) ∙ keeps in
    cc

-- the end of a turn, where it leads back to the start
turn_ends : (n k : Noted) (start : Holds) (spot : Spot) (o : Outcome) (after : Holds) → ending n o ≡ Ok (Some after, k) →
    unless_worse start after spot (goes (Some after) None) ≡ goes (Some after) None → ending n (ends_turn start spot o) ≡ Ok (Some after, k)
turn_ends n k start spot (faults other rule) after ends keeps = cc
turn_ends n k start spot (goes None raising) after ends keeps = cc
turn_ends n k start spot (goes (Some holds) raising) after ends keeps = turn_keeps n k start spot (are_as_good holds start) holds after raising refl ends keeps

-- and where it doesn't
turn_stays : (n k : Noted) (start : Holds) (spot : Spot) (o : Outcome) → ending n o ≡ Ok (None, k) → ending n (ends_turn start spot o) ≡ Ok (None, k)
turn_stays n k start spot (faults other rule) ends = cc
turn_stays n k start spot (goes None raising) ends = ends
turn_stays n k start spot (goes (Some holds) raising) ends = let none : Some holds ≡ None = ap normal_of ends in cc

-- statements with their handlers
abbrev pub handled_end : Noted → (passes : Bool) → (Holds → Outcome) → End → End
handled_end n passes handlers (Err breach) = Err breach
handled_end n passes handlers (Ok end) = end_handled n passes handlers end.0 end.1

wanted_ends : (n : Noted) (passes : Bool) (handlers : Holds → Outcome) (o : Outcome) →
    ending n (handled passes handlers o) ≡ handled_end n passes handlers (ending (wanted None) o)
wanted_ends n passes handlers (faults spot rule) = refl
wanted_ends n passes handlers (goes normal None) = ap (λ m. Ok (normal, m)) (nothing_noted n)
wanted_ends n passes handlers (goes normal (Some raising)) = either_ends n (goes normal (raising_if passes raising)) (handlers raising)

pub handled_ends : (n : Noted) (types : List TypeForm) (variables : List VariableForm) (around : Around) (passes : Bool) (hs : HandlersForm) (o : Outcome) →
    ending n (handled passes (handlers_flow types variables around hs) o) ≡ handled_end n passes (handlers_flow types variables around hs) (ending (noted_for n hs) o)
handled_ends unwanted types variables around passes no_handlers (faults spot rule) = refl
handled_ends unwanted types variables around passes no_handlers (goes normal None) = refl
handled_ends unwanted types variables around passes no_handlers (goes normal (Some raising)) = ap (λ h. Ok (h, unwanted)) (join_option_none normal)
handled_ends unwanted types variables around passes (a_handler choices fs hs) o = wanted_ends unwanted passes (handlers_flow types variables around (a_handler choices fs hs)) o
handled_ends (wanted before) types variables around passes hs o = wanted_ends (wanted before) passes (handlers_flow types variables around hs) o

-- what statements with their handlers come to behind this end
abbrev pub handled_on : List TypeForm → List VariableForm → Around → (passes : Bool) → StmtsForm → HandlersForm → Option Holds → Noted → End
handled_on types variables around passes fs hs None n = Ok (None, n)
handled_on types variables around passes fs hs (Some at) n =
    handled_end n passes (handlers_flow types variables around hs) (ending (noted_for n hs) (stmts_flow types variables around fs at))

abbrev pub then_handled : List TypeForm → List VariableForm → Around → (passes : Bool) → StmtsForm → HandlersForm → End → End
then_handled types variables around passes fs hs (Err breach) = Err breach
then_handled types variables around passes fs hs (Ok end) = handled_on types variables around passes fs hs end.0 end.1

handled_behind : (types : List TypeForm) (variables : List VariableForm) (around : Around) (passes : Bool) (fs : StmtsForm) (hs : HandlersForm) (end : End) →
    then_end end (λ at. handled passes (handlers_flow types variables around hs) (stmts_flow types variables around fs at)) ≡ then_handled types variables around passes fs hs end
handled_behind types variables around passes fs hs (Err breach) = refl
handled_behind types variables around passes fs hs (Ok (None, n)) = refl
handled_behind types variables around passes fs hs (Ok (Some at, n)) = handled_ends n types variables around passes hs (stmts_flow types variables around fs at)

-- declarations, then statements with their handlers
pub body_ends : (n : Noted) (types : List TypeForm) (variables : List VariableForm) (around : Around) (passes : Bool) (ds : List DeclarationForm) (fs : StmtsForm) (hs : HandlersForm) (holds : Holds) →
    ending n (then_flow (declarations_flow types variables around.tracks around.effects.implicit ds holds) (λ at. handled passes (handlers_flow types variables around hs) (stmts_flow types variables around fs at)))
    ≡ then_handled types variables around passes fs hs (ending n (declarations_flow types variables around.tracks around.effects.implicit ds holds))
body_ends n types variables around passes ds fs hs holds =
    then_ends n (declarations_flow types variables around.tracks around.effects.implicit ds holds) (λ at. handled passes (handlers_flow types variables around hs) (stmts_flow types variables around fs at))
    ∙ handled_behind types variables around passes fs hs (ending n (declarations_flow types variables around.tracks around.effects.implicit ds holds))

-- declarations end as the first, or else as the others
pub declarations_end : (n : Noted) (types : List TypeForm) (variables : List VariableForm) (tracks : Tracks) (implicit : Implicit) (d : DeclarationForm) (ds : List DeclarationForm) (holds : Holds) →
    ending n (declarations_flow types variables tracks implicit (d ∷ ds) holds)
    ≡ then_end (ending n (declaration_flow types variables tracks implicit d holds)) (declarations_flow types variables tracks implicit ds)
declarations_end n types variables tracks implicit d ds holds = then_ends n (declaration_flow types variables tracks implicit d holds) (declarations_flow types variables tracks implicit ds)

-- one turn of a loop, where it leads back
pub turn_returns : (leaves : Bool) (n m k : Noted) (condition : Option ExpressionForm) (spot : Spot) (types : List TypeForm) (variables : List VariableForm) (around : Around) (fs : StmtsForm) (start after : Holds) →
    ending n (condition_flow around.tracks condition start) ≡ Ok (Some start, m) → ending m (stmts_flow types variables (in_loop (Some start) around) fs start) ≡ Ok (Some after, k) →
    unless_worse start after spot (goes (Some after) None) ≡ goes (Some after) None →
    ending n (loop_flow around.tracks condition leaves spot (λ place hs. stmts_flow types variables (in_loop place around) fs hs) start) ≡ Ok ((if leaves then Some start else None), k)
turn_returns leaves n m k condition spot types variables around fs start after tests turns keeps =
    left_ends n leaves start (then_flow (condition_flow around.tracks condition start) (λ hs. ends_turn start spot (stmts_flow types variables (in_loop (Some start) around) fs hs)))
    ∙ ap (left_over leaves start)
    (then_ends n (condition_flow around.tracks condition start) (λ hs. ends_turn start spot (stmts_flow types variables (in_loop (Some start) around) fs hs))
    ∙ ap (λ e. then_end e (λ hs. ends_turn start spot (stmts_flow types variables (in_loop (Some start) around) fs hs))) tests
    ∙ turn_ends m k start spot (stmts_flow types variables (in_loop (Some start) around) fs start) after turns keeps)

-- and where it doesn't
pub turn_stops : (leaves : Bool) (n m k : Noted) (condition : Option ExpressionForm) (spot : Spot) (types : List TypeForm) (variables : List VariableForm) (around : Around) (fs : StmtsForm) (start : Holds) →
    ending n (condition_flow around.tracks condition start) ≡ Ok (Some start, m) → ending m (stmts_flow types variables (in_loop (Some start) around) fs start) ≡ Ok (None, k) →
    ending n (loop_flow around.tracks condition leaves spot (λ place hs. stmts_flow types variables (in_loop place around) fs hs) start) ≡ Ok ((if leaves then Some start else None), k)
turn_stops leaves n m k condition spot types variables around fs start tests turns =
    left_ends n leaves start (then_flow (condition_flow around.tracks condition start) (λ hs. ends_turn start spot (stmts_flow types variables (in_loop (Some start) around) fs hs)))
    ∙ ap (left_over leaves start)
    (then_ends n (condition_flow around.tracks condition start) (λ hs. ends_turn start spot (stmts_flow types variables (in_loop (Some start) around) fs hs))
    ∙ ap (λ e. then_end e (λ hs. ends_turn start spot (stmts_flow types variables (in_loop (Some start) around) fs hs))) tests
    ∙ turn_stays m k start spot (stmts_flow types variables (in_loop (Some start) around) fs start) turns)

-- a block ends as its statements do with their handlers, behind its declarations
enclosed_ends : (n : Noted) (types : List TypeForm) (variables : List VariableForm) (around : Around) (cleared : Bool) (ds : List DeclarationForm) (fs : StmtsForm) (hs : HandlersForm) (holds : Holds) →
    ending n (stmt_flow types variables around cleared (encloses ds fs hs) holds)
    ≡ left_end n variables around.effects.implicit (gone_with ds)
    (then_handled types variables (in_block (gone_with ds) around) (passes around.effects fs hs) fs hs (ending (emptied n) (declarations_flow types variables around.tracks around.effects.implicit ds holds)))
enclosed_ends n types variables around cleared ds fs hs holds =
    block_ends n variables around.effects.implicit (gone_with ds) (then_flow (declarations_flow types variables around.tracks around.effects.implicit ds holds) (λ at. handled (passes around.effects fs hs) (handlers_flow types variables (in_block (gone_with ds) around) hs) (stmts_flow types variables (in_block (gone_with ds) around) fs at)))
    ∙ ap (left_end n variables around.effects.implicit (gone_with ds)) (body_ends (emptied n) types variables (in_block (gone_with ds) around) (passes around.effects fs hs) ds fs hs holds)

-- its declarations break a rule
pub block_declares_badly : (n : Noted) (types : List TypeForm) (variables : List VariableForm) (around : Around) (cleared : Bool) (ds : List DeclarationForm) (fs : StmtsForm) (hs : HandlersForm) (holds : Holds) (breach : Spot × Rule) →
    ending (emptied n) (declarations_flow types variables around.tracks around.effects.implicit ds holds) ≡ Err breach →
    ending n (stmt_flow types variables around cleared (encloses ds fs hs) holds) ≡ Err breach
block_declares_badly n types variables around cleared ds fs hs holds breach declares =
    enclosed_ends n types variables around cleared ds fs hs holds
    ∙ ap (λ e. left_end n variables around.effects.implicit (gone_with ds) (then_handled types variables (in_block (gone_with ds) around) (passes around.effects fs hs) fs hs e)) declares

-- its statements do
pub block_breaks : (n m : Noted) (types : List TypeForm) (variables : List VariableForm) (around : Around) (cleared : Bool) (gone : Gone) (ds : List DeclarationForm) (fs : StmtsForm) (hs : HandlersForm) (holds at : Holds) (breach : Spot × Rule) →
    gone ≡ gone_with ds → ending (emptied n) (declarations_flow types variables around.tracks around.effects.implicit ds holds) ≡ Ok (Some at, m) →
    ending (noted_for m hs) (stmts_flow types variables (in_block gone around) fs at) ≡ Err breach →
    ending n (stmt_flow types variables around cleared (encloses ds fs hs) holds) ≡ Err breach
block_breaks n m types variables around cleared gone ds fs hs holds at breach same declares breaks =
    enclosed_ends n types variables around cleared ds fs hs holds
    ∙ ap (λ e. left_end n variables around.effects.implicit (gone_with ds) (then_handled types variables (in_block (gone_with ds) around) (passes around.effects fs hs) fs hs e)) declares
    ∙ ap (λ g. left_end n variables around.effects.implicit (gone_with ds) (handled_end m (passes around.effects fs hs) (handlers_flow types variables (in_block (gone_with ds) around) hs) (ending (noted_for m hs) (stmts_flow types variables (in_block g around) fs at)))) (sym same)
    ∙ ap (λ e. left_end n variables around.effects.implicit (gone_with ds) (handled_end m (passes around.effects fs hs) (handlers_flow types variables (in_block (gone_with ds) around) hs) e)) breaks

-- its statements end, and its handlers do, or break a rule
pub block_handles : (n m k : Noted) (types : List TypeForm) (variables : List VariableForm) (around : Around) (cleared : Bool) (gone : Gone) (ds : List DeclarationForm) (fs : StmtsForm) (hs : HandlersForm) (holds at : Holds) (normal : Option Holds) (end : End) →
    gone ≡ gone_with ds → ending (emptied n) (declarations_flow types variables around.tracks around.effects.implicit ds holds) ≡ Ok (Some at, m) →
    ending (noted_for m hs) (stmts_flow types variables (in_block gone around) fs at) ≡ Ok (normal, k) →
    end_handled m (passes around.effects fs hs) (handlers_flow types variables (in_block gone around) hs) normal k ≡ end →
    ending n (stmt_flow types variables around cleared (encloses ds fs hs) holds) ≡ left_end n variables around.effects.implicit gone end
block_handles n m k types variables around cleared gone ds fs hs holds at normal end same declares ends handles =
    enclosed_ends n types variables around cleared ds fs hs holds
    ∙ ap (λ e. left_end n variables around.effects.implicit (gone_with ds) (then_handled types variables (in_block (gone_with ds) around) (passes around.effects fs hs) fs hs e)) declares
    ∙ ap (λ g. left_end n variables around.effects.implicit g (handled_end m (passes around.effects fs hs) (handlers_flow types variables (in_block g around) hs) (ending (noted_for m hs) (stmts_flow types variables (in_block g around) fs at)))) (sym same)
    ∙ ap (λ e. left_end n variables around.effects.implicit gone (handled_end m (passes around.effects fs hs) (handlers_flow types variables (in_block gone around) hs) e)) ends
    ∙ ap (left_end n variables around.effects.implicit gone) handles

-- a body whose declarations and statements come to an end ends as its handlers do
pub parts_end : (n m k : Noted) (types : List TypeForm) (variables : List VariableForm) (around : Around) (passes : Bool) (ds : List DeclarationForm) (fs : StmtsForm) (hs : HandlersForm) (holds at : Holds) (normal : Option Holds) →
    ending n (declarations_flow types variables around.tracks around.effects.implicit ds holds) ≡ Ok (Some at, m) → ending (noted_for m hs) (stmts_flow types variables around fs at) ≡ Ok (normal, k) →
    ending n (then_flow (declarations_flow types variables around.tracks around.effects.implicit ds holds) (λ at. handled passes (handlers_flow types variables around hs) (stmts_flow types variables around fs at)))
    ≡ end_handled m passes (handlers_flow types variables around hs) normal k
parts_end n m k types variables around passes ds fs hs holds at normal declares ends =
    body_ends n types variables around passes ds fs hs holds
    ∙ ap (λ e. then_handled types variables around passes fs hs e) declares
    ∙ ap (λ e. handled_end m passes (handlers_flow types variables around hs) e) ends

pub ruleset block_steps = (block_declares_badly, block_breaks, block_handles)

pub ruleset noted_steps = (nothing_noted, declarations_end, statements_end, branches_end, branches_break, condition_breaks, handlers_end, handlers_break, joined_to_none, join_option_none)
