use Rattle.std.proofs.Common.{◌≡◌, ◌++◌, map, drop}
use Rattle.ada_tree.specs.Declarations.{choice_of}
use Rattle.ada_resolve.specs.Exceptions.{choices_meant, choices_remark}
use Rattle.ada_resolve.specs.Remark.{noted}
use Rattle.ada_resolve.specs.View.{known_of}
use Rattle.ada_resolve.proofs.resolver.Resolver.choices.Given as goal

-- what is left, behind what is found, makes the whole
abbrev pub invariant-loop-choice : goal.invariant-loop-choice
invariant-loop-choice l = record {
  made :
      l.made.items ++ choices_meant (known_of l.self) (map choice_of (drop l.choice-index l.choices)) ≡
      choices_meant (known_of l.self) (map choice_of l.choices);
  noted :
      noted (choices_remark (known_of l.self) (map choice_of (drop l.choice-index l.choices))) l.notes ≡
      noted (choices_remark (known_of l.self) (map choice_of l.choices)) l.initial.notes;
}
