-- Where nothing is awaited, nothing is left.
use Rattle.std.proofs.Common.{drop, List, [], arith}
use Rattle.ada_meaning.specs.declared.state.Value.{Value}
use Rattle.std.proofs.lemmas.List.{drop_all}
use Rattle.ada_interpreter.proofs.ActivationLemmas.{awaited_after}
use Rattle.ada_interpreter.proofs.activations.Activations.take.Goals as goal

pub invariant_of-self : goal.invariant_of-self
invariant_of-self c =
    awaited_after (λ (xs : List Value). drop c.args.count xs) c.self.inside.begun c.self.inside.operands c.take.new.self c.take.result (drop_all c.args.count [] (omega arith)) c.take.ensures.left c.take.ensures.unchanged c.self.invariant
