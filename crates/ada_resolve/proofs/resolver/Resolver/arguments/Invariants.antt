use Rattle.std.proofs.Common.{◌≡◌, map, drop}
use Rattle.ada_tree.specs.ExpressionView.{argument_of}
use Rattle.ada_resolve.specs.Arguments.{arguments_remark}
use Rattle.ada_resolve.specs.Remark.{noted}
use Rattle.ada_resolve.specs.View.{known_of}
use Rattle.ada_resolve.proofs.resolver.Resolver.arguments.Given as goal

-- what is left, from here, makes the whole
abbrev pub invariant-loop-argument : goal.invariant-loop-argument
invariant-loop-argument l =
    noted (arguments_remark (known_of l.self) (map argument_of (drop l.argument-index l.arguments))) l.notes ≡
    noted (arguments_remark (known_of l.self) (map argument_of l.arguments)) l.initial.notes
