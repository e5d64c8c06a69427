-- Once the formal parameters that are left give back what they hold, all have.
use Rattle.std.proofs.Common.{◌≡◌, map}
use Rattle.std.specs.Iterator.Adapters.{zip_first, zip_second}
use Rattle.std.specs.Slice.Iter.{iter_rest}
use Rattle.ada_program.specs.Form.{actual_form}
use Rattle.ada_meaning.specs.Step.{copied_back}
use Rattle.ada_interpreter.proofs.given.copy_back.Given as goal

abbrev pub invariant-loop-actual : goal.invariant-loop-actual
invariant-loop-actual l =
    copied_back (map actual_form (iter_rest (zip_first l.actual-iterator))) (iter_rest (zip_second l.actual-iterator)) l.variables
    ≡ copied_back (map actual_form l.actuals) l.formals l.fn.variables
