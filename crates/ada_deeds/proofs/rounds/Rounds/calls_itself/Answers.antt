use Rattle.std.proofs.Common.{◌≡◌, ℕ, Bool, true, [], sym, ◌∙◌}
use Rattle.std.specs.Prelude.{◌↔◌, slice_index_or, Result, Ok, Err, IfOk}
use Rattle.ada_deeds.specs.Rounds.{CallsItself, KnowsCalls}
use Rattle.ada_deeds.specs.declared.rounds.Rounds.{Rounds}
use Rattle.ada_deeds.proofs.Circles.{knows_rounds, no_round}
use Rattle.ada_program.specs.declared.program.ProcedureNo.{ProcedureNo}
use Rattle.ada_program.specs.ProgramForm.{ProgramForm}
use Rattle.ada_reach.specs.Graph.{IsReached}
use Rattle.ada_reach.specs.View.{graph_of}
use Rattle.ada_deeds.proofs.rounds.Rounds.calls_itself.Goals as goal

if_ok : {X E : Type 0} (r : Result X E) (P Q : X → Type 0) → ((x : X) → P x → Q x) → IfOk r P → IfOk r Q
if_ok (Ok x) P Q f h = f x h
if_ok (Err e) P Q f h = h

abbrev IsOnRound : Rounds → (n : ℕ) → Bool → Type 0
IsOnRound rounds n answer = (answer ≡ true) ↔ IsReached (graph_of rounds.calls.callers.items) (slice_index_or (graph_of rounds.calls.callers.items) n []) n

abbrev Answers : Rounds → ProcedureNo → Bool → Type 0
Answers rounds procedure answer = (p : ProgramForm) → KnowsCalls rounds p → (answer ≡ true) ↔ CallsItself p procedure

-- what has no node calls nothing
pub returns-in-None : goal.returns-in-None
returns-in-None c = λ p k. (
  (λ is. absurd (cc is)),
  (λ h. absurd (no_round c.args.self.now p k c.args.procedure (sym c.node.ensures ∙ c.in-None.is) h)),
)

-- its node is reached from those that call it
pub returns-in-Some : goal.returns-in-Some
returns-in-Some c =
    let rounds = c.args.self.now in
    if_ok c.is_on_a_round.result (IsOnRound rounds c.in-Some.node) (Answers rounds c.args.procedure)
    (λ answer h p k.
    let same = knows_rounds rounds p k c.args.procedure c.in-Some.node (sym c.node.ensures ∙ c.in-Some.is) in
    ((λ is. same.0 (h.0 is)), (λ round. h.1 (same.1 round))))
    c.is_on_a_round.ensures
