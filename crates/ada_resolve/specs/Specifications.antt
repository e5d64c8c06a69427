-- Specifications of the operations of controlled types (7.6, 6.1): what is wrong with each, and what is known after it.

use Rattle.std.specs.Prelude.{ℕ, not, nat_lt, List, Option, Some, None, is_some}
use Rattle.ada_tree.specs.Declarations.{HeadTree}
use Rattle.ada_resolve.specs.declared.fault.NameRule.TheVariants.{DeclaredTwice, NotInProfile, Layout, Limit}
use Rattle.ada_resolve.specs.declared.primitives.Operation.{Operation}
use Rattle.ada_resolve.specs.Instances.{is_among}
use Rattle.ada_resolve.specs.Known.{Known, most_names, own_names, type_begins}
use Rattle.ada_resolve.specs.Primitives.{formal_name, formal_specified, operation_named, specified_for, specified_more}
use Rattle.ada_resolve.specs.Procedures.{formals_remark, head_operand, no_formals}
use Rattle.ada_resolve.specs.Remark.{Remark, wrong, ◌also◌, wrong_if}
use Rattle.ada_resolve.specs.Spots.{head_spot}

-- A specification is for a type that has the operation: else it is not in the profile. The type has no other one for it, no instance has frozen the type
-- (13.14), and the part has room for one more name.
abbrev pub operand_remark : Option ℕ → Known → Operation → HeadTree → Remark
operand_remark None known operation head = wrong (head_spot head) NotInProfile
operand_remark (Some t) known operation head =
    wrong_if (is_some (formal_specified t (specified_for operation known.here.specified))) head.name.spot DeclaredTwice also
    wrong_if (is_among t known.frozen) (head_spot head) Layout also
    wrong_if (not (nat_lt (own_names known.here) most_names)) head.name.spot Limit

-- What is wrong with a specification of an operation: it is a node of the source before the objects and the bodies of its part; so is its formal.
abbrev pub operation_remark : Known → Operation → HeadTree → Remark
operation_remark known operation head =
    type_begins known (head_spot head) also
    formals_remark known no_formals head.formals also
    operand_remark (head_operand (Some operation) known head) known operation head

-- What is wrong with a specification: those of other procedures are not in the profile yet.
abbrev pub specified_remark : Option Operation → Known → HeadTree → Remark
specified_remark (Some operation) known head = operation_remark known operation head
specified_remark None known head = wrong (head_spot head) NotInProfile

-- `overriding procedure Finalize (X : in out T);`
abbrev pub specification_remark : Known → HeadTree → Remark
specification_remark known head = specified_remark (operation_named head.name.text) known head

-- What is known once an operation of a type is specified, with a formal of this name.
abbrev pub with_specification : Operation → ℕ → List ℕ → Known → Known
with_specification operation t formal known =
    record known { here = record known.here { specified = specified_more operation t formal known.here.specified } }

-- What is known once it is specified, where its type is known.
abbrev pub specified_if : Operation → Option ℕ → List ℕ → Known → Known
specified_if operation (Some t) formal known = with_specification operation t formal known
specified_if operation None formal known = known

-- What is known after a specification of an operation.
abbrev pub operation_known : Option Operation → Known → HeadTree → Known
operation_known (Some operation) known head = specified_if operation (head_operand (Some operation) known head) (formal_name head.formals) known
operation_known None known head = known

-- What is known after a specification: no name stands for it.
abbrev pub specification_known : Known → HeadTree → Known
specification_known known head = operation_known (operation_named head.name.text) known head
