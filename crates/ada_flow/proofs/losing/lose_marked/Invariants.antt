use Rattle.std.proofs.Common.{◌≡◌, ◌≤◌, ◌++◌, take, drop, length, map}
use Rattle.ada_flow.specs.Flow.{without_freed}
use Rattle.ada_flow.specs.Told.{marked_types}
use Rattle.ada_program.specs.ProgramForm.{variable_form}
use Rattle.ada_flow.proofs.losing.lose_marked.Given as goal

-- what is left so far, and what remains to be, are all
abbrev pub invariant-loop-number : goal.invariant-loop-number
invariant-loop-number l = record {
  behind : take l.number l.holds.items ++ without_freed (map variable_form (drop l.number l.variables)) (marked_types l.marks) (drop l.number l.holds.items)
      ≡ without_freed (map variable_form l.variables) (marked_types l.marks) l.fn.holds.items;
  short : length l.holds.items ≤ length l.variables;
}
