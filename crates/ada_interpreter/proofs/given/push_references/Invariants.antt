-- Once what refers to the components is kept that are left, all is.
use Rattle.std.proofs.Common.{◌≡◌, ◌++◌, map, drop}
use Rattle.ada_program.specs.Form.{actual_form}
use Rattle.ada_meaning.specs.Step.{references_in}
use Rattle.ada_interpreter.proofs.given.push_references.Given as goal

abbrev pub invariant-loop-actual : goal.invariant-loop-actual
invariant-loop-actual l =
    l.references.items ++ references_in (map actual_form (drop l.actual-index l.actuals)) l.left
    ≡ l.fn.references.items ++ references_in (map actual_form l.actuals) l.computed
