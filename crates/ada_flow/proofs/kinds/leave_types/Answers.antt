use Rattle.std.proofs.Common.{map, ◌∙◌}
use Rattle.ada_program.specs.ProgramForm.{variable_form}
use Rattle.ada_flow.specs.Told.{type_number}
use Rattle.ada_flow.proofs.Behind.{left_by_marks}
use Rattle.ada_flow.proofs.kinds.leave_types.Goals as goal

pub returns : goal.returns
returns c =
    c.lose.ensures
    ∙ left_by_marks (map variable_form c.args.variables.now) c.in_ok-marks.marks (map type_number c.args.types.now) c.args.holds.items c.in_ok-marks.ensures
