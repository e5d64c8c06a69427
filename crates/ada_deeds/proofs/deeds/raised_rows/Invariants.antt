use Rattle.std.proofs.Common.{◌≡◌, ℕ, ◌<◌, length}
use Rattle.ada_deeds.specs.Graph.{MarksDoers}
use Rattle.ada_deeds.specs.Rows.{row_at}
use Rattle.ada_deeds.specs.declared.deed.Deed.TheVariants as deed
use Rattle.ada_program.specs.declared.program.Exception.TheVariants.{Declared}
use Rattle.ada_program.specs.ProgramForm.{program_form}
use Rattle.ada_deeds.proofs.deeds.raised_rows.Given as goal

-- the exceptions so far have their marks
abbrev pub invariant-numbers : goal.invariant-numbers
invariant-numbers l = record {
  size : length l.rows.items ≡ l.number;
  rows : (n : ℕ) → n < l.number → MarksDoers (program_form l.program) (deed.Raises (Declared (record { 0 = n }))) l.nodes.procedures l.nodes.types (row_at l.rows.items n);
}
