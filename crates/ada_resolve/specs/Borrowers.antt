-- Borrowers: variables of an anonymous access type, which own nothing; what is wrong with the declaration of each, and what is known after it.

use Rattle.std.specs.Prelude.{true, false, not, List, Option, Some, None}
use Rattle.ada_text.specs.declared.spot.Spot.{Spot}
use Rattle.ada_tree.specs.Names.{Ident}
use Rattle.ada_tree.specs.Expressions.{path_expression, RightTree, expression_right}
use Rattle.ada_program.specs.Form.{PathForm, value_of}
use Rattle.ada_program.specs.ProgramForm.{TypeForm}
use Rattle.ada_program.specs.declared.program.TypeNo.{TypeNo}
use Rattle.ada_program.specs.declared.program.VariableKind.TheVariants as variable
use Rattle.ada_resolve.specs.declared.fault.NameRule.TheVariants.{WrongType, NoInitialValue}
use Rattle.ada_resolve.specs.Known.{Known, new_name_remark}
use Rattle.ada_resolve.specs.Remark.{Remark, fine, wrong, node, ◌also◌, wrong_if}
use Rattle.ada_resolve.specs.Expressions.{expression_remark}
use Rattle.ada_resolve.specs.Instances.{designates_if_known}
use Rattle.ada_resolve.specs.Objects.{variable_created}
use Rattle.ada_resolve.specs.Paths.{Meant, access_value, lent_value, path_meant, unknown}
use Rattle.ada_resolve.specs.Rights.{right_remark}
use Rattle.ada_resolve.specs.Types.{record_found, record_remark}

-- What a borrower borrows at first: the path of an access value, and its type.
abbrev pub lender_in : Meant → Option (PathForm × TypeNo)
lender_in (access_value path t) = Some (path, t)
lender_in other = None

-- What a borrower borrows at first, or `None` where something is wrong.
abbrev pub lender_found : Known → Option RightTree → Option (PathForm × TypeNo)
lender_found known (Some (expression_right (path_expression path))) = lender_in (path_meant known path)
lender_found known other = None

-- An access value is wanted whose type designates the record type, where that is known (3.10).
abbrev pub lender_wanted : List TypeForm → Option TypeNo → Meant → Spot → Remark
lender_wanted types designated unknown spot = fine
lender_wanted types designated (access_value path t) spot = wrong_if (not (designates_if_known types t.0 designated)) spot WrongType
lender_wanted types designated (lent_value t) spot = wrong_if (not (designates_if_known types t.0 designated)) spot WrongType
lender_wanted types designated other spot = wrong spot WrongType

-- What is wrong with the initial value of a borrower: it is a path, without parentheses (the profile's). Any other value is looked through too.
abbrev pub lender_remark : Known → Ident → Option TypeNo → Option RightTree → Remark
lender_remark known name designated (Some (expression_right (path_expression path))) =
    expression_remark known (path_expression path) also lender_wanted known.types designated (path_meant known path) path.root.spot
lender_remark known name designated (Some other) = right_remark known None false other also wrong name.spot NoInitialValue
lender_remark known name designated None = wrong name.spot NoInitialValue

-- `B : access T := P;` (3.3.1, 3.10): a node of the source, a new name, a record type, complete or not, and a path that is an access value to it.
abbrev pub borrower_remark : Known → Ident → Ident → Option RightTree → Remark
borrower_remark known name designated initial =
    node name.spot also
    new_name_remark known name name.spot also
    record_remark known designated also
    lender_remark known name (record_found known designated) initial

-- After it the borrower is known, a variable of the type of what it borrows, and is created with that.
abbrev pub borrower_created : Known → Ident → Option (PathForm × TypeNo) → Known
borrower_created known name (Some lender) = variable_created known name true (variable.Access lender.1) (value_of lender.0)
borrower_created known name None = known

-- What is known after the declaration of a borrower.
abbrev pub borrower_known : Known → Ident → Option RightTree → Known
borrower_known known name initial = borrower_created known name (lender_found known initial)
