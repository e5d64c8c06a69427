-- The actual parameters of calls, which are evaluated one after another.

use Rattle.std.proofs.Common.{◌≡◌, ℕ, zero, suc, ◌-◌, ◌<◌, ◌≤◌, List, [], ◌∷◌, length, take, map, get_or, ap, ◌∙◌, arith}
use Rattle.ada_program.specs.declared.program.Actual.{Actual}
use Rattle.ada_program.specs.Form.{actual_form}
use Rattle.ada_meaning.specs.declared.state.Value.{Value}
use Rattle.ada_meaning.specs.Frame.{Frame, evaluating}
use Rattle.ada_meaning.specs.Step.{at, computing}
use Rattle.ada_meaning.specs.Named.{State, named}
use Rattle.ada_interpreter.specs.Process.{pushed}

-- one actual parameter more of those that are evaluated before what else is left to do
pub computing_more : (actuals : List Actual) (i : ℕ) (a : Actual) (k : List (Frame Value)) → i < length actuals → a ≡ get_or actuals i a → computing named (map actual_form (take i actuals)) (evaluating (actual_form a) ∷ k) ≡ computing named (map actual_form (take (suc i) actuals)) k
computing_more [] i a k within here = absurd (omega arith)
computing_more (x ∷ actuals) zero a k within here = ap (λ (b : Actual). evaluating (actual_form b) ∷ k) here
computing_more (x ∷ actuals) (suc i) a k within here =
    ap (λ (fs : List (Frame Value)). evaluating (actual_form x) ∷ fs) (computing_more actuals i a k (omega arith) here)

-- so a state with one more of them in front is as it is with all of them
pub in_front_more : (actuals : List Actual) (left : ℕ) (a : Actual) (before after last : State) → 0 < left → left ≤ length actuals → a ≡ get_or actuals (left - 1) a → after ≡ pushed (evaluating (actual_form a)) before → at (computing named (map actual_form (take left actuals)) before.control) before ≡ last → at (computing named (map actual_form (take (left - 1) actuals)) after.control) after ≡ last
in_front_more actuals zero a before after last some within here is all = absurd (omega (arith, some))
in_front_more actuals (suc i) a before after last some within here is all =
    let count : suc i - 1 ≡ i = omega arith in
    let first : a ≡ get_or actuals i a = rw count at here in
    rw (count, is) (ap (λ (k : List (Frame Value)). at k before) (computing_more actuals i a before.control (omega (arith, within)) first) ∙ all)
