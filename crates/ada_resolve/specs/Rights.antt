-- What is assigned: what is wrong with it, and what it means.

use Rattle.std.specs.Prelude.{Bool, false, List, [], ◌∷◌, Option, Some, None}
use Rattle.ada_text.specs.declared.spot.Spot.{Spot}
use Rattle.ada_program.specs.Form.{ItemForm, item_of_record, RightForm, nothing, value_of, computes}
use Rattle.ada_tree.specs.Expressions.{RightTree, expression_right, allocator_right, creation_right}
use Rattle.ada_program.specs.ProgramForm.{TypeForm, VariableForm}
use Rattle.ada_program.specs.declared.program.TypeNo.{TypeNo}
use Rattle.ada_resolve.specs.declared.fault.NameRule.TheVariants.{WrongType, NotInProfile}
use Rattle.ada_resolve.specs.declared.rights.Held.{Held}
use Rattle.ada_resolve.specs.declared.rights.Held.TheVariants as held
use Rattle.ada_resolve.specs.Controlled.{copy_wanted}
use Rattle.ada_resolve.specs.Known.{Known}
use Rattle.ada_resolve.specs.Remark.{Remark, fine, wrong, ◌also◌, wrong_if}
use Rattle.ada_resolve.specs.Spots.{expression_spot}
use Rattle.ada_resolve.specs.Allocators.{allocator_found, allocator_remark}
use Rattle.ada_resolve.specs.Expressions.{expression_meant, expression_remark}
use Rattle.ada_resolve.specs.Operators.{access_wanted, boolean_wanted, integer_wanted, owner_wanted, record_value_wanted}
use Rattle.ada_resolve.specs.Paths.{Meant, access_value, aggregate_value, boolean_value, integer_value, lent_value, null_value, record_value, unknown}

-- The access type of what is assigned to.
abbrev pub access_kind : Option Held → Option TypeNo
access_kind (Some (held.Access t)) = Some t
access_kind (Some held.Integer) = None
access_kind (Some held.Boolean) = None
access_kind (Some (held.Record t)) = None
access_kind None = None

-- What is assigned is of the type of what it is assigned to, where that is known: to an access object null, or a value of that very type, and to a
-- record a record of that very type, which is not limited.
abbrev pub assigned_wanted : List TypeForm → Option Held → Meant → Spot → Remark
assigned_wanted types (Some held.Integer) value spot = integer_wanted value spot
assigned_wanted types (Some held.Boolean) value spot = boolean_wanted value spot
assigned_wanted types (Some (held.Access t)) value spot = access_wanted t value spot
assigned_wanted types (Some (held.Record t)) value spot = record_value_wanted t value spot also copy_wanted types t value spot
assigned_wanted types None value spot = fine

-- What a borrower holds goes to borrowers only (3.10.2): where it is known what is assigned to, and it is none, no borrower is assigned to it.
abbrev pub lent_wanted : List VariableForm → Option Held → (borrows : Bool) → Meant → Spot → Remark
lent_wanted variables (Some kind) false value spot = owner_wanted variables value spot
lent_wanted variables kind borrows value spot = fine

-- No allocator is an Integer, a Boolean or a record.
abbrev pub access_object_wanted : Option Held → Spot → Remark
access_object_wanted (Some held.Integer) spot = wrong spot WrongType
access_object_wanted (Some held.Boolean) spot = wrong spot WrongType
access_object_wanted (Some (held.Access t)) spot = fine
access_object_wanted (Some (held.Record t)) spot = wrong spot WrongType
access_object_wanted None spot = fine

-- What is wrong with what is assigned, where it is known to what, and whether that is a borrower: a new object goes to none. No subpool is made yet
-- (13.11.4).
abbrev pub right_remark : Known → Option Held → (borrows : Bool) → RightTree → Remark
right_remark known kind borrows (expression_right e) =
    expression_remark known e also assigned_wanted known.types kind (expression_meant known e) (expression_spot e) also
    lent_wanted known.variables kind borrows (expression_meant known e) (expression_spot e)
right_remark known kind borrows (allocator_right spot handle type_name items) =
    access_object_wanted kind spot also wrong_if borrows spot WrongType also
    allocator_remark known (access_kind kind) spot handle type_name items
right_remark known kind borrows (creation_right function argument) = wrong function.root.spot NotInProfile

-- What is assigned (5.2): a value, or a record, by its items.
pub data Assigned : Type 0 where
  a_value : RightForm → Assigned
  a_whole : List ItemForm → Assigned

-- What an expression assigns, or `None` where something is wrong.
abbrev pub assigned : Meant → Option Assigned
assigned unknown = None
assigned null_value = Some (a_value nothing)
assigned (access_value path t) = Some (a_value (value_of path))
assigned (integer_value e) = Some (a_value (computes e))
assigned (boolean_value e) = Some (a_value (computes e))
assigned (record_value path) = Some (a_whole (item_of_record path ∷ []))
assigned (aggregate_value t items) = Some (a_whole items)
assigned (lent_value t) = None

-- A new object is assigned, where it is known.
abbrev pub new_assigned : Option RightForm → Option Assigned
new_assigned (Some right) = Some (a_value right)
new_assigned None = None

-- What is assigned, or `None` where something is wrong.
abbrev pub right_found : Known → Option Held → RightTree → Option Assigned
right_found known kind (expression_right e) = assigned (expression_meant known e)
right_found known kind (allocator_right spot handle type_name items) =
    new_assigned (allocator_found known (access_kind kind) handle type_name items)
right_found known kind (creation_right function argument) = None
