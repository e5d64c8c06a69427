use Rattle.std.proofs.Common.{◌≡◌, ◌≤◌, ◌++◌, take, drop, length, map}
use Rattle.ada_flow.specs.Told.{without_marked}
use Rattle.ada_program.specs.ProgramForm.{variable_form}
use Rattle.ada_flow.proofs.kinds.lose.Given as goal

-- what is left behind so far, and what remains to be, are all
abbrev pub invariant-loop-number : goal.invariant-loop-number
invariant-loop-number l = record {
  behind : take l.number l.holds.items ++ without_marked (map variable_form (drop l.number l.variables)) l.marks (drop l.number l.holds.items)
      ≡ without_marked (map variable_form l.variables) l.marks l.fn.holds.items;
  short : length l.holds.items ≤ length l.variables;
}
