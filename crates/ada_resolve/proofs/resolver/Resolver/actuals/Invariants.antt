use Rattle.std.proofs.Common.{◌≡◌, ◌++◌, ◌≤◌, map, drop, length}
use Rattle.ada_tree.specs.ExpressionView.{argument_of}
use Rattle.ada_program.specs.Form.{actual_form}
use Rattle.ada_program.specs.Kept.{variables_in}
use Rattle.ada_program.specs.WellFormed.{kind_held}
use Rattle.ada_resolve.specs.Actuals.{given_all, given_all_remark}
use Rattle.ada_resolve.specs.Remark.{noted}
use Rattle.ada_resolve.specs.View.{known_of}
use Rattle.ada_resolve.proofs.resolver.Resolver.actuals.Given as goal

-- what is left, behind what is given, makes the whole
abbrev pub invariant-formals : goal.invariant-formals
invariant-formals l = record {
  count : length l.made.items ≡ l.formal-index;
  all : l.formal-index ≤ length l.arguments;
  meaning :
      map actual_form l.made.items ++
      given_all (known_of l.self) (map kind_held (variables_in (drop l.formal-index l.formals))) l.modes_left (map argument_of (drop l.formal-index l.arguments)) ≡
      given_all (known_of l.self) (map kind_held (variables_in l.formals)) l.modes (map argument_of l.arguments);
  remark :
      noted (given_all_remark (known_of l.self) l.called (map kind_held (variables_in (drop l.formal-index l.formals))) l.modes_left (map argument_of (drop l.formal-index l.arguments))) l.notes ≡
      noted (given_all_remark (known_of l.self) l.called (map kind_held (variables_in l.formals)) l.modes (map argument_of l.arguments)) l.initial.notes;
}
