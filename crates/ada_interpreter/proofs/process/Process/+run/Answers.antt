use Rattle.std.proofs.Common.{rules, w32, to_z, pos, ◌+ℤ◌, FitsSigned, true, ◌≡◌, ◌-◌, ◌<◌, ◌≤◌, List, ◌∷◌, length, refl, sym, ap, ◌∙◌, subst, arith}
use Rattle.std.proofs.lemmas.Grind.{common_steps}
use Rattle.std.proofs.lemmas.Int.{to_z-of_z}
use Rattle.std.specs.Option.{option_copied}
use Rattle.ada_program.specs.Form.{stmt_form, stmts_form, condition_form}
use Rattle.ada_meaning.specs.declared.state.Value.{Value}
use Rattle.ada_meaning.specs.Frame.{Frame}
use Rattle.ada_meaning.specs.Frame as frame
use Rattle.ada_meaning.specs.Named.{State, an_integer}
use Rattle.ada_meaning.specs.Step as step
use Rattle.ada_interpreter.specs.declared.frame.Frame.TheVariants as held
use Rattle.ada_interpreter.specs.CommonSteps.{GoesQuietly, begun_with_inner, newest_counted_to, counting}
use Rattle.ada_interpreter.specs.Process.{state_of, pushed}
use Rattle.ada_interpreter.proofs.AtOnceLemmas.{all_done, statement_done, comes_within, same_control, put_back, counts_first, counts_next_turn}
use Rattle.ada_interpreter.proofs.CommonStepLemmas.{none_made, within_limit, quietly_within, both_ok}
use Rattle.ada_interpreter.proofs.process.Process.+run.Goals as goal

pub run_branch-returns-then-is_empty-clause-steps : goal.run_branch-returns-then-is_empty-clause-steps
run_branch-returns-then-is_empty-clause-steps t c program runs =
    let u = c.run_at_once-left in
    let old = state_of c.args.self.now in
    let f = frame.Does (stmts_form c.args.behind.now) in
    let first = pushed (frame.Does (stmts_form c.args.statements.now)) (pushed f old) in
    let none : length u.result.0.now ≡ 0 = grind (arith, common_steps, c.is_empty.ensures, c.if-is_empty.true) in
    let done = all_done program first (state_of u.new.self) u.result.0.now (f ∷ old.control) (c.args.limit - u.result.1) none (u.ensures.mode ∙ runs) (u.ensures.steps program (f ∷ old.control) runs) in
    subst (λ (k : List (Frame Value)). GoesQuietly program first (c.args.limit - u.result.1) (step.at (f ∷ k) (state_of u.new.self))) (sym (same_control u.ensures.frames)) done

pub run_branch-returns-then-run-clause-steps : goal.run_branch-returns-then-run-clause-steps
run_branch-returns-then-run-clause-steps t c program runs =
    let u = c.run_at_once-left in
    let old = state_of c.args.self.now in
    let f = frame.Does (stmts_form c.args.behind.now) in
    let rest = frame.Does (stmts_form u.result.0.now) in
    let first = pushed (frame.Does (stmts_form c.args.statements.now)) (pushed f old) in
    let so_far = subst (λ (k : List (Frame Value)). GoesQuietly program first (c.args.limit - u.result.1) (step.at (rest ∷ f ∷ k) (state_of u.new.self))) (sym (same_control u.ensures.frames)) (u.ensures.steps program (f ∷ old.control) runs) in
    let there = subst (λ (k : List (Frame Value)). GoesQuietly program first (c.args.limit - u.result.1) (step.at (rest ∷ k) (state_of u.new.self))) (sym (same_control c.in_ok-push.ensures.pushed)) so_far in
    let all = within_limit c.args.limit u.result.1 c.in_ok-run.run'.left there (c.in_ok-run.ensures.steps program (u.ensures.mode ∙ runs)) u.ensures.left c.in_ok-run.ensures.left in
    let q = c.run_on.new.self in
    let last = put_back q.frames c.push.new.self u.new.self.frames c.shorten.new.self (held.Does c.args.behind) (c.in_ok-run.ensures.frames c.if-run.true) c.in_ok-push.ensures.pushed c.shorten.ensures in
    rw c.if-run.true (subst (λ (k : List (Frame Value)). GoesQuietly program first (c.args.limit - c.in_ok-run.run'.left) (step.at k (state_of q))) (sym last) all)

pub run_branch-returns-else-run-clause-steps : goal.run_branch-returns-else-run-clause-steps
run_branch-returns-else-run-clause-steps t c program runs =
    let u = c.run_at_once-left in
    let old = state_of c.args.self.now in
    let f = frame.Does (stmts_form c.args.behind.now) in
    let rest = frame.Does (stmts_form u.result.0.now) in
    let first = pushed (frame.Does (stmts_form c.args.statements.now)) (pushed f old) in
    let so_far = subst (λ (k : List (Frame Value)). GoesQuietly program first (c.args.limit - u.result.1) (step.at (rest ∷ f ∷ k) (state_of u.new.self))) (sym (same_control u.ensures.frames)) (u.ensures.steps program (f ∷ old.control) runs) in
    let there = subst (λ (k : List (Frame Value)). GoesQuietly program first (c.args.limit - u.result.1) (step.at (rest ∷ k) (state_of u.new.self))) (sym (same_control c.in_ok-push.ensures.pushed)) so_far in
    rw c.if-run.false (within_limit c.args.limit u.result.1 c.in_ok-run.run'.left there (c.in_ok-run.ensures.steps program (u.ensures.mode ∙ runs)) u.ensures.left c.in_ok-run.ensures.left)

pub run_on-statements-init : goal.run_on-statements-init
run_on-statements-init t c = record {
  steps = λ program runs. none_made program (pushed (frame.Does (stmts_form c.args.statements.now)) (state_of c.args.self.now)) c.args.limit;
  left = omega arith;
  counted = omega arith;
  unchanged = λ same. refl;
  rest = λ same. refl;
  frames = refl;
  mode = refl;
}

pub run_on-returns-else-run-clause-steps : goal.run_on-returns-else-run-clause-steps
run_on-returns-else-run-clause-steps t c program runs =
    let i = c.statements.invariant in
    let running = i.mode ∙ runs in
    let s = state_of c.statements.self in
    let start = pushed (frame.Does (stmts_form c.args.statements.now)) (state_of c.args.self.now) in
    let f = frame.Does (stmts_form c.in-Some.behind.now) in
    let some : 0 < c.statements.left = omega (arith, c.if-left-eq0.false) in
    let so_far = subst (λ xs. GoesQuietly program start (c.args.limit - c.statements.left) (pushed (frame.Does (stmts_form xs)) s)) c.in-Some.ensures.cases.0 (i.steps program runs) in
    let on = rw c.in-Some-inner_at_once.is at (c.inner_at_once.ensures program (f ∷ s.control) running) in
    let begun = statement_done program start s (begun_with_inner c.in-Some-inner_at_once.inner (pushed f s)) (stmt_form c.in-Some.first.now) (stmts_form c.in-Some.behind.now) s.control c.args.limit c.statements.left running so_far on some i.left in
    let all = within_limit c.args.limit (c.statements.left - 1) c.in_ok-run.run'.left begun (c.in_ok-run.ensures.steps program running) (omega (arith, i.left)) c.in_ok-run.ensures.left in
    rw c.if-run.false at all

pub run_on-statements-preserved : goal.run_on-statements-preserved
run_on-statements-preserved t c =
    let i = c.statements.invariant in
    let v = c.run_at_once-now in
    let some : 0 < c.statements.left = omega (arith, c.if-left-eq0.false) in
    record {
      steps = λ program runs.
          let running = i.mode ∙ runs in
          let s = state_of c.statements.self in
          let u = state_of c.run_inner.new.self in
          let start = pushed (frame.Does (stmts_form c.args.statements.now)) (state_of c.args.self.now) in
          let f = frame.Does (stmts_form c.in-Some.behind.now) in
          let so_far = subst (λ xs. GoesQuietly program start (c.args.limit - c.statements.left) (pushed (frame.Does (stmts_form xs)) s)) c.in-Some.ensures.cases.0 (i.steps program runs) in
          let on = rw c.in-Some-inner_at_once.is at (c.inner_at_once.ensures program (f ∷ s.control) running) in
          let begun = statement_done program start s (begun_with_inner c.in-Some-inner_at_once.inner (pushed f s)) (stmt_form c.in-Some.first.now) (stmts_form c.in-Some.behind.now) s.control c.args.limit c.statements.left running so_far on some i.left in
          let all = within_limit c.args.limit (c.statements.left - 1) c.in_ok-run.run'.left begun (c.in_ok-run.ensures.steps program running) (omega (arith, i.left)) c.in_ok-run.ensures.left in
          let there = rw c.if-run.true at all in
          let further = within_limit c.args.limit c.in_ok-run.run'.left v.result.1 there (v.ensures.steps program u.control (c.in_ok-run.ensures.mode ∙ running)) (omega (arith, c.in_ok-run.ensures.left, i.left)) v.ensures.left in
          subst (λ (k : List (Frame Value)). GoesQuietly program start (c.args.limit - v.result.1) (step.at (frame.Does (stmts_form v.result.0.now) ∷ k) (state_of v.new.self))) (sym (same_control v.ensures.frames)) further;
      left = omega (arith, v.ensures.left, c.in_ok-run.ensures.left, i.left);
      counted = omega (arith, some, i.counted, c.in-Some.ensures.cases.1, v.ensures.counted, c.in_ok-run.ensures.left);
      unchanged = λ same. absurd (omega (arith, same, some, v.ensures.left, c.in_ok-run.ensures.left, i.left));
      rest = λ same. absurd (omega (arith, same, some, v.ensures.left, c.in_ok-run.ensures.left, i.left));
      frames = v.ensures.frames ∙ (c.in_ok-run.ensures.frames c.if-run.true ∙ i.frames);
      mode = v.ensures.mode ∙ (c.in_ok-run.ensures.mode ∙ i.mode);
    }

pub run_on-returns-clause-steps : goal.run_on-returns-clause-steps
run_on-returns-clause-steps t c program runs =
    let i = c.statements.invariant in
    let s = state_of c.statements.self in
    all_done program (pushed (frame.Does (stmts_form c.args.statements.now)) (state_of c.args.self.now)) s c.statements.rest.now s.control (c.args.limit - c.statements.left) c.in_default.ensures.cases (i.mode ∙ runs) (i.steps program runs)

pub run_through-returns-then-is_empty-clause-steps : goal.run_through-returns-then-is_empty-clause-steps
run_through-returns-then-is_empty-clause-steps t c program runs =
    let u = c.run_at_once-left in
    let old = state_of c.args.self.now in
    let first = pushed (frame.Does (stmts_form c.args.statements.now)) old in
    let none : length u.result.0.now ≡ 0 = grind (arith, common_steps, c.is_empty.ensures, c.if-is_empty.true) in
    let done = all_done program first (state_of u.new.self) u.result.0.now old.control (c.args.limit - u.result.1) none (u.ensures.mode ∙ runs) (u.ensures.steps program old.control runs) in
    subst (λ (k : List (Frame Value)). GoesQuietly program first (c.args.limit - u.result.1) (step.at k (state_of u.new.self))) (sym (same_control u.ensures.frames)) done

pub run_through-returns-clause-steps : goal.run_through-returns-clause-steps
run_through-returns-clause-steps t c program runs =
    let u = c.run_at_once-left in
    let old = state_of c.args.self.now in
    let first = pushed (frame.Does (stmts_form c.args.statements.now)) old in
    let rest = frame.Does (stmts_form u.result.0.now) in
    let last = state_of c.run_on.new.self in
    let so_far = subst (λ (k : List (Frame Value)). GoesQuietly program first (c.args.limit - u.result.1) (step.at (rest ∷ k) (state_of u.new.self))) (sym (same_control u.ensures.frames)) (u.ensures.steps program old.control runs) in
    both_ok c.run_on.result (λ run. GoesQuietly program (pushed rest (state_of u.new.self)) (u.result.1 - run.left) last) (λ run. run.left ≤ u.result.1) (λ run. GoesQuietly program first (c.args.limit - run.left) last)
    (λ run more further. within_limit c.args.limit u.result.1 run.left so_far more u.ensures.left further)
    (c.run_on.ensures.steps program (u.ensures.mode ∙ runs)) c.run_on.ensures.left

pub repeat_turns-turns-init : goal.repeat_turns-turns-init
repeat_turns-turns-init t c = record {
  steps = λ program runs. none_made program (state_of c.args.self.now) c.args.limit;
  left = omega arith;
  frames = refl;
  mode = refl;
}

pub repeat_turns-returns-else-run-clause-steps : goal.repeat_turns-returns-else-run-clause-steps
repeat_turns-returns-else-run-clause-steps t c program runs =
    let i = c.turns.invariant in
    let running = i.mode ∙ runs in
    let turn = rw c.in-Begins.is at (c.repeat_at_once.ensures.steps program running) in
    let begun = quietly_within (i.steps program runs) (comes_within program (state_of c.turns.self) _ running turn.1) in
    within_limit c.args.limit c.turns.left c.in_ok-run-in-Begins.run'.left begun (c.in_ok-run-in-Begins.ensures.steps program (c.repeat_at_once.ensures.mode ∙ running)) i.left c.in_ok-run-in-Begins.ensures.left

pub repeat_turns-turns-preserved : goal.repeat_turns-turns-preserved
repeat_turns-turns-preserved t c =
    let i = c.turns.invariant in
    let begun_frames = rw c.in-Begins.is at c.repeat_at_once.ensures.frames in
    record {
      steps = λ program runs.
          let running = i.mode ∙ runs in
          let turn = rw c.in-Begins.is at (c.repeat_at_once.ensures.steps program running) in
          let begun = quietly_within (i.steps program runs) (comes_within program (state_of c.turns.self) _ running turn.1) in
          within_limit c.args.limit c.turns.left c.in_ok-run-in-Begins.run'.left begun (c.in_ok-run-in-Begins.ensures.steps program (c.repeat_at_once.ensures.mode ∙ running)) i.left c.in_ok-run-in-Begins.ensures.left;
      left = omega (arith, i.left, c.in_ok-run-in-Begins.ensures.left);
      frames = c.in_ok-run-in-Begins.ensures.frames c.if-run.true ∙ (begun_frames ∙ i.frames);
      mode = c.in_ok-run-in-Begins.ensures.mode ∙ (c.repeat_at_once.ensures.mode ∙ i.mode);
    }

pub repeat_turns-returns-in-Ends-clause-steps : goal.repeat_turns-returns-in-Ends-clause-steps
repeat_turns-returns-in-Ends-clause-steps t c program runs =
    let i = c.turns.invariant in
    let running = i.mode ∙ runs in
    quietly_within (i.steps program runs) (comes_within program (state_of c.turns.self) _ running (rw c.in-Ends.is at (c.repeat_at_once.ensures.steps program running)))

pub repeat_turns-returns-in-Unknown-clause-steps : goal.repeat_turns-returns-in-Unknown-clause-steps
repeat_turns-returns-in-Unknown-clause-steps t c program runs =
    let i = c.turns.invariant in
    let same : c.repeat_at_once.new.self ≡ c.turns.self = rw c.in-Unknown.is at (c.repeat_at_once.ensures.steps program (i.mode ∙ runs)) in
    rw same (i.steps program runs)

pub count_turns-turns-init : goal.count_turns-turns-init
count_turns-turns-init t c = record {
  steps = λ program runs. none_made program (state_of c.args.self.now) c.args.limit;
  left = omega arith;
  frames = rw (to_z-of_z w32 c.args.value (search rules)) (c.requires ∙ sym (ap (newest_counted_to c.args.value) c.requires));
  mode = refl;
}

pub count_turns-returns-else-run-clause-steps : goal.count_turns-returns-else-run-clause-steps
count_turns-returns-else-run-clause-steps t c program runs =
    let i = c.turns.invariant in
    let running = i.mode ∙ runs in
    let turn = rw c.in-Begins.is at (c.count_at_once.ensures.steps program running) in
    let begun = quietly_within (i.steps program runs) (comes_within program (state_of c.turns.self) _ running turn.1) in
    within_limit c.args.limit c.turns.left c.in_ok-run-in-Begins.run'.left begun (c.in_ok-run-in-Begins.ensures.steps program (c.count_at_once.ensures.mode ∙ running)) i.left c.in_ok-run-in-Begins.ensures.left

pub count_turns-turns-preserved : goal.count_turns-turns-preserved
count_turns-turns-preserved t c =
    let i = c.turns.invariant in
    let below = (rw c.in-Begins.is at c.count_at_once.ensures.frames).0 in
    let begun_frames = (rw c.in-Begins.is at c.count_at_once.ensures.frames).1 in
    let next_fits : FitsSigned w32 (to_z w32 c.turns.count-bits +ℤ pos 1) = search rules in
    record {
      steps = λ program runs.
          let running = i.mode ∙ runs in
          let turn = rw c.in-Begins.is at (c.count_at_once.ensures.steps program running) in
          let begun = quietly_within (i.steps program runs) (comes_within program (state_of c.turns.self) _ running turn.1) in
          within_limit c.args.limit c.turns.left c.in_ok-run-in-Begins.run'.left begun (c.in_ok-run-in-Begins.ensures.steps program (c.count_at_once.ensures.mode ∙ running)) i.left c.in_ok-run-in-Begins.ensures.left;
      left = omega (arith, i.left, c.in_ok-run-in-Begins.ensures.left);
      frames = rw (to_z-of_z w32 (to_z w32 c.turns.count-bits +ℤ pos 1) next_fits) (c.in_ok-run-in-Begins.ensures.frames c.if-run.true ∙ counts_next_turn c.args.self.now.frames c.turns.self.frames c.count_at_once.new.self.frames c.args.parameter c.args.value _ c.args.last c.args.statements _ c.requires i.frames begun_frames);
      mode = c.in_ok-run-in-Begins.ensures.mode ∙ (c.count_at_once.ensures.mode ∙ i.mode);
    }

pub count_turns-returns-in-Ends-clause-steps : goal.count_turns-returns-in-Ends-clause-steps
count_turns-returns-in-Ends-clause-steps t c program runs =
    let i = c.turns.invariant in
    let running = i.mode ∙ runs in
    quietly_within (i.steps program runs) (comes_within program (state_of c.turns.self) _ running (rw c.in-Ends.is at (c.count_at_once.ensures.steps program running)))

pub count_turns-returns-in-Unknown-clause-steps : goal.count_turns-returns-in-Unknown-clause-steps
count_turns-returns-in-Unknown-clause-steps t c program runs =
    let i = c.turns.invariant in
    let same : c.count_at_once.new.self ≡ c.turns.self = rw c.in-Unknown.is at (c.count_at_once.ensures.steps program (i.mode ∙ runs)) in
    rw same (i.steps program runs)

pub count_turns-count_at_once-requires : goal.count_turns-count_at_once-requires
count_turns-count_at_once-requires t c =
    rw (to_z-of_z w32 c.args.last (search rules))
    (counts_first c.args.self.now.frames c.turns.self.frames c.args.parameter c.args.value _ c.args.last c.args.statements c.requires c.turns.invariant.frames)

pub run_loop-returns-then-run-clause-steps : goal.run_loop-returns-then-run-clause-steps
run_loop-returns-then-run-clause-steps t c program runs =
    let old = state_of c.args.self.now in
    let f = held.Does c.args.behind in
    let q = c.repeat_turns.new.self in
    let first = pushed (frame.Repeats (condition_form (option_copied c.args.condition)) (stmts_form c.args.statements.now)) (pushed (frame.Does (stmts_form c.args.behind.now)) old) in
    let there = same_control (c.in_ok-push-2.ensures.pushed ∙ ap (λ fs. held.Repeats c.args.condition c.args.statements ∷ fs) c.in_ok-push.ensures.pushed) in
    let all = subst (λ (k : List (Frame Value)). GoesQuietly program (step.at k old) (c.args.limit - c.in_ok-run.run'.left) (state_of q)) there (c.in_ok-run.ensures.steps program runs) in
    let last = put_back q.frames c.push.new.self c.args.self.now.frames c.shorten.new.self f (c.in_ok-run.ensures.frames c.if-run.true ∙ ap step.older c.in_ok-push-2.ensures.pushed) c.in_ok-push.ensures.pushed c.shorten.ensures in
    rw c.if-run.true (subst (λ (k : List (Frame Value)). GoesQuietly program first (c.args.limit - c.in_ok-run.run'.left) (step.at k (state_of q))) (sym last) all)

pub run_loop-returns-else-run-clause-steps : goal.run_loop-returns-else-run-clause-steps
run_loop-returns-else-run-clause-steps t c program runs =
    let old = state_of c.args.self.now in
    let q = c.repeat_turns.new.self in
    let there = same_control (c.in_ok-push-2.ensures.pushed ∙ ap (λ fs. held.Repeats c.args.condition c.args.statements ∷ fs) c.in_ok-push.ensures.pushed) in
    let all = subst (λ (k : List (Frame Value)). GoesQuietly program (step.at k old) (c.args.limit - c.in_ok-run.run'.left) (state_of q)) there (c.in_ok-run.ensures.steps program runs) in
    rw c.if-run.false all

pub run_count-returns-then-run-clause-steps : goal.run_count-returns-then-run-clause-steps
run_count-returns-then-run-clause-steps t c program runs =
    let old = state_of c.args.self.now in
    let f = held.Does c.args.behind in
    let fs = stmts_form c.args.statements.now in
    let x = c.args.parameter.0 in
    let q = c.count_turns.new.self in
    let turns = simp (to_z-of_z, c.ranges.first, c.ranges.last) at c.in_ok-push-2.ensures.pushed in
    let put = simp (to_z-of_z, c.ranges.first) at c.put.ensures.state in
    let first = counting x c.args.first c.args.last fs (pushed (frame.Does (stmts_form c.args.behind.now)) old) in
    let controlled = same_control (turns ∙ ap (λ gs. held.Counts c.args.parameter c.args.first c.args.last c.args.statements ∷ gs) c.in_ok-push.ensures.pushed) in
    let there : pushed (frame.Does fs) (state_of c.put.new.self) ≡ first = ap (pushed (frame.Does fs)) put ∙ ap (λ (k : List (Frame Value)). step.put x (an_integer c.args.first) (step.at (frame.Does fs ∷ k) old)) controlled in
    let running = ap (λ (s : State). s.mode) put ∙ runs in
    let begun = subst (λ (s : State). GoesQuietly program s (c.args.limit - c.in_ok-begun.begun.left) (state_of c.run_through.new.self)) there (c.in_ok-begun.ensures.steps program running) in
    let more = c.in_ok-run.ensures.steps program (c.in_ok-begun.ensures.mode ∙ running) in
    let all = within_limit c.args.limit c.in_ok-begun.begun.left c.in_ok-run.run'.left begun more c.in_ok-begun.ensures.left c.in_ok-run.ensures.left in
    let done : c.in_ok-begun.begun.is_done ≡ true = grind (arith, common_steps, c.if-not-begun.false) in
    let ends = c.in_ok-run.ensures.frames c.if-run.true ∙ ap step.older (c.in_ok-begun.ensures.frames done ∙ (c.put.ensures.frames ∙ turns)) in
    let last = put_back q.frames c.push.new.self c.args.self.now.frames c.shorten.new.self f ends c.in_ok-push.ensures.pushed c.shorten.ensures in
    rw c.if-run.true (subst (λ (k : List (Frame Value)). GoesQuietly program first (c.args.limit - c.in_ok-run.run'.left) (step.at k (state_of q))) (sym last) all)

pub run_count-returns-else-run-clause-steps : goal.run_count-returns-else-run-clause-steps
run_count-returns-else-run-clause-steps t c program runs =
    let old = state_of c.args.self.now in
    let fs = stmts_form c.args.statements.now in
    let x = c.args.parameter.0 in
    let q = c.count_turns.new.self in
    let turns = simp (to_z-of_z, c.ranges.first, c.ranges.last) at c.in_ok-push-2.ensures.pushed in
    let put = simp (to_z-of_z, c.ranges.first) at c.put.ensures.state in
    let first = counting x c.args.first c.args.last fs (pushed (frame.Does (stmts_form c.args.behind.now)) old) in
    let controlled = same_control (turns ∙ ap (λ gs. held.Counts c.args.parameter c.args.first c.args.last c.args.statements ∷ gs) c.in_ok-push.ensures.pushed) in
    let there : pushed (frame.Does fs) (state_of c.put.new.self) ≡ first = ap (pushed (frame.Does fs)) put ∙ ap (λ (k : List (Frame Value)). step.put x (an_integer c.args.first) (step.at (frame.Does fs ∷ k) old)) controlled in
    let running = ap (λ (s : State). s.mode) put ∙ runs in
    let begun = subst (λ (s : State). GoesQuietly program s (c.args.limit - c.in_ok-begun.begun.left) (state_of c.run_through.new.self)) there (c.in_ok-begun.ensures.steps program running) in
    let more = c.in_ok-run.ensures.steps program (c.in_ok-begun.ensures.mode ∙ running) in
    let all = within_limit c.args.limit c.in_ok-begun.begun.left c.in_ok-run.run'.left begun more c.in_ok-begun.ensures.left c.in_ok-run.ensures.left in
    rw c.if-run.false all
