-- Assignments: what is wrong with each, and what it does (5.2).

use Rattle.std.specs.Prelude.{Bool, false, List, Option, Some, None}
use Rattle.ada_text.specs.declared.spot.Spot.{Spot}
use Rattle.ada_tree.specs.Names.{PathTree}
use Rattle.ada_tree.specs.Expressions.{RightTree}
use Rattle.ada_program.specs.Form.{ExpressionForm, PathForm, RecordPathForm, StmtForm, assigns, assigns_record, reads}
use Rattle.ada_program.specs.ProgramForm.{VariableForm}
use Rattle.ada_program.specs.WellFormed.{names_borrower}
use Rattle.ada_resolve.specs.declared.fault.NameRule.TheVariants.{WrongType}
use Rattle.ada_resolve.specs.declared.rights.Held.{Held}
use Rattle.ada_resolve.specs.declared.rights.Held.TheVariants as held
use Rattle.ada_resolve.specs.Known.{Known}
use Rattle.ada_resolve.specs.Paths.{Meant, access_value, boolean_value, integer_value, lent_value, path_meant, path_remark, record_value, unknown, written_remark}
use Rattle.ada_resolve.specs.Remark.{Remark, fine, wrong, node, ◌also◌}
use Rattle.ada_resolve.specs.Rights.{Assigned, a_value, a_whole, right_found, right_remark}

-- What is assigned to: a variable or a component, with what it holds, or a record.
pub data Target : Type 0 where
  value_target : PathForm → Held → Target
  record_target : RecordPathForm → Target

-- What an expression reads as a target, where this is held.
abbrev pub read_target : Held → ExpressionForm → Option Target
read_target kind (reads path) = Some (value_target path kind)
read_target kind other = None

-- What a path means as a target.
abbrev pub target_meant : Meant → Option Target
target_meant (integer_value e) = read_target held.Integer e
target_meant (boolean_value e) = read_target held.Boolean e
target_meant (access_value path t) = Some (value_target path (held.Access t))
target_meant (record_value path) = Some (record_target path)
target_meant other = None

-- What is assigned to: a variable, a component or a record; `None` where something is wrong.
unfoldable pub target_found : Known → PathTree → Option Target
target_found known target = target_meant (path_meant known target)

-- What is read somewhere is wanted: no other value is assigned to.
abbrev pub read_wanted : ExpressionForm → Spot → Remark
read_wanted (reads path) spot = fine
read_wanted other spot = wrong spot WrongType

-- A variable, a component or a record is wanted, where the meaning is known.
abbrev pub target_wanted : Meant → Spot → Remark
target_wanted unknown spot = fine
target_wanted (integer_value e) spot = read_wanted e spot
target_wanted (boolean_value e) spot = read_wanted e spot
target_wanted (access_value path t) spot = fine
target_wanted (lent_value t) spot = fine
target_wanted (record_value path) spot = fine
target_wanted other spot = wrong spot WrongType

-- What is wrong with a path where something is assigned to (5.2): it is no constant, and not the operand that an operation keeps (7.6).
unfoldable pub target_remark : Known → PathTree → Remark
target_remark known target =
    path_remark known target also
    written_remark known target (path_meant known target) also
    target_wanted (path_meant known target) target.root.spot

-- What is held where a target is, where it is known.
abbrev pub held_by_target : Option Target → Option Held
held_by_target (Some (value_target path kind)) = Some kind
held_by_target (Some (record_target path)) = Some (held.Record (record { 0 = path.record_type }))
held_by_target None = None

-- Whether the target is a borrower (3.10), where it is known.
abbrev pub target_borrows : List VariableForm → Option Target → Bool
target_borrows variables (Some (value_target path kind)) = names_borrower variables path
target_borrows variables (Some (record_target path)) = false
target_borrows variables None = false

-- What is wrong with `X := ..;`, `A.C := ..;` or `X.all := ..;` (5.2): a node of the source, a target, and a value or a record of its type.
unfoldable pub assignment_remark : Known → PathTree → RightTree → Remark
assignment_remark known target value =
    node target.root.spot also target_remark known target also
    right_remark known (held_by_target (target_found known target)) (target_borrows known.variables (target_found known target)) value

-- The assignment of a value to a target, or of a record to a record, or `None` where either is not known.
abbrev pub assignment_of : Option Target → Option Assigned → Option StmtForm
assignment_of (Some (value_target path kind)) (Some (a_value value)) = Some (assigns path value)
assignment_of (Some (record_target path)) (Some (a_whole items)) = Some (assigns_record path items)
assignment_of target value = None

-- What an assignment does, or `None` where something is wrong.
unfoldable pub assignment_found : Known → PathTree → RightTree → Option StmtForm
assignment_found known target value =
    assignment_of (target_found known target) (right_found known (held_by_target (target_found known target)) value)
