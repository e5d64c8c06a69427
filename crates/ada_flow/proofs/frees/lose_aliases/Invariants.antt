use Rattle.std.proofs.Common.{◌≡◌, ◌≤◌, ◌++◌, take, drop, length, map}
use Rattle.ada_flow.specs.Flow.{without_aliases}
use Rattle.ada_program.specs.ProgramForm.{variable_form}
use Rattle.ada_flow.proofs.frees.lose_aliases.Given as goal

-- what is left so far, and what remains to be, are all
abbrev pub invariant-loop-number : goal.invariant-loop-number
invariant-loop-number l = record {
  behind : take l.number l.holds.items ++ without_aliases (map variable_form (drop l.number l.variables)) l.access (drop l.number l.holds.items)
      ≡ without_aliases (map variable_form l.variables) l.access l.fn.holds.items;
  short : length l.holds.items ≤ length l.variables;
}
