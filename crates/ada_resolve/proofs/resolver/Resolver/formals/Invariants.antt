use Rattle.std.proofs.Common.{◌≡◌, map, drop}
use Rattle.ada_tree.specs.Declarations.{formal_of}
use Rattle.ada_resolve.specs.Procedures.{formals_remark, no_formals, with_formals}
use Rattle.ada_resolve.specs.Remark.{noted}
use Rattle.ada_resolve.specs.View.{formals_in, known_of}
use Rattle.ada_resolve.proofs.resolver.Resolver.formals.Given as goal

-- what is left, behind what is looked at, makes the whole
abbrev pub invariant-loop-formal : goal.invariant-loop-formal
invariant-loop-formal l = record {
  meaning :
      with_formals (known_of l.self) (map formal_of (drop l.formal-index l.formals)) (formals_in l.made) ≡
      with_formals (known_of l.self) (map formal_of l.formals) no_formals;
  remark :
      noted (formals_remark (known_of l.self) (formals_in l.made) (map formal_of (drop l.formal-index l.formals))) l.notes ≡
      noted (formals_remark (known_of l.self) no_formals (map formal_of l.formals)) l.initial.notes;
}
