-- What one formal parameter before gives back comes in front.
use Rattle.std.proofs.Common.{inl, inr, List, ◌++◌, sym, ap, ◌∙◌, arith}
use Rattle.ada_meaning.specs.declared.state.Value.{Value}
use Rattle.ada_meaning.specs.declared.state.Value.TheVariants.{Null}
use Rattle.ada_interpreter.proofs.OperandLemmas.{none_stored, stored_before}
use Rattle.ada_interpreter.proofs.given.push_stored.Goals as goal
use Rattle.ada_interpreter.proofs.given.push_stored.Goals.{then-actuals-formals, else-actuals-formals}

pub actuals-init : goal.actuals-init
actuals-init c = elim c.if-actuals-formals.branch [
  | then-actuals-formals w ↦ record {
    actuals = omega arith;
    formals = omega arith;
    put = sym (ap (λ (vs : List Value). vs ++ c.args.operands.now) (none_stored c.args.actuals.now c.args.formals.now c.if-actuals-formals.left (inl (omega arith))));
  }
  | else-actuals-formals w ↦ record {
    actuals = omega arith;
    formals = omega arith;
    put = sym (ap (λ (vs : List Value). vs ++ c.args.operands.now) (none_stored c.args.actuals.now c.args.formals.now c.if-actuals-formals.left (inr (omega arith))));
  }
]

pub actuals-preserved : goal.actuals-preserved
actuals-preserved c =
    let before = stored_before c.args.actuals.now c.args.formals.now c.actuals.left c.index-actuals-left.result Null (omega arith) c.actuals.invariant.actuals c.actuals.invariant.formals c.index-actuals-left.is in
    let none = sym c.is_component.ensures ∙ c.if-is_component.false in
    record {
      actuals = omega (arith, c.actuals.invariant.actuals);
      formals = omega (arith, c.actuals.invariant.formals);
      put = c.actuals.invariant.put ∙ sym (ap (λ (vs : List Value). vs ++ c.args.operands.now) (rw none at before));
    }
