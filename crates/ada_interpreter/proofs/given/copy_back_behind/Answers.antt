-- Where the running activation has no formal parameters, or its caller no variables, nothing is given back.
use Rattle.std.proofs.Common.{◌≡◌, ◌++◌, ◌≤◌, drop, take, length, List, map, rules, arith, ap, sym}
use Rattle.std.proofs.lemmas.List.{drop_all}
use Rattle.ada_program.specs.Form.{actual_form}
use Rattle.ada_meaning.specs.declared.state.Value.{Value}
use Rattle.ada_interpreter.proofs.ActivationLemmas.{none_gives, none_gets}
use Rattle.ada_interpreter.proofs.given.copy_back_behind.Goals as goal

pub returns-else-caller-callers-clause-given : goal.returns-else-caller-callers-clause-given
returns-else-caller-callers-clause-given c =
    let same : c.split_at_mut-callers.result.0.now ++ c.split_at_mut-callers.result.1.now ≡ c.args.places.now = search rules in
    let front : c.split_at_mut-callers.result.0.now ≡ take c.args.callee c.args.places.now = search rules in
    let few : length (take c.args.callee c.args.places.now) ≤ c.args.caller = omega (arith, ap (λ (xs : List Value). length xs) front) in
    rw (same, drop_all c.args.caller (take c.args.callee c.args.places.now) few)
    (sym (none_gets (map actual_form c.args.actuals.now) (drop c.args.callee c.args.places.now)))

pub returns-else-callee-places-clause-given : goal.returns-else-callee-places-clause-given
returns-else-callee-places-clause-given c =
    rw (drop_all c.args.callee c.args.places.now (omega arith))
    (sym (none_gives (map actual_form c.args.actuals.now) (drop c.args.caller (take c.args.callee c.args.places.now))))
