use Rattle.std.proofs.Common.{◌≡◌, ◌++◌, map}
use Rattle.ada_program.specs.ProgramForm.{part_form}
use Rattle.ada_resolve.specs.Kept.{entry_form}
use Rattle.ada_resolve.proofs.components.Components.parts.Given as goal

-- what is left, behind what is made, makes the whole
abbrev pub invariant-loop-name : goal.invariant-loop-name
invariant-loop-name l = map part_form l.parts.items ++ map entry_form l.name-iterator ≡ map entry_form l.self.entries.entries
