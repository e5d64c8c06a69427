-- The arguments of a call: what is wrong with each, whatever it is for.

use Rattle.std.specs.Prelude.{ℕ, not, List, [], ◌∷◌, Option, Some, None, bytes_eq, codes}
use Rattle.ada_text.specs.declared.spot.Spot.{Spot}
use Rattle.ada_tree.specs.Names.{Ident}
use Rattle.ada_tree.specs.Expressions.{ExpressionTree, ArgumentTree, expression_argument, text_argument, attribute_argument}
use Rattle.ada_resolve.specs.declared.fault.NameRule.TheVariants.{WrongType, NotInProfile}
use Rattle.ada_resolve.specs.declared.scope.Entity.{Entity}
use Rattle.ada_resolve.specs.declared.scope.Entity.TheVariants as entity
use Rattle.ada_resolve.specs.Known.{Known, visible, missing}
use Rattle.ada_resolve.specs.Remark.{Remark, fine, wrong, ◌also◌, wrong_if}
use Rattle.ada_resolve.specs.Spots.{expression_spot, argument_spot}
use Rattle.ada_resolve.specs.Expressions.{expression_meant, expression_remark}
use Rattle.ada_resolve.specs.Operators.{integer_wanted}

-- The attribute is Integer'Image (3.5); every other is not in the profile, and a library unit has none.
abbrev pub image_wanted : Option Entity → List ℕ → Spot → Remark
image_wanted (Some entity.Integer) attribute spot = wrong_if (not (bytes_eq attribute (codes "IMAGE"))) spot NotInProfile
image_wanted (Some entity.LibraryUnit) attribute spot = wrong spot WrongType
image_wanted (Some other) attribute spot = wrong spot NotInProfile
image_wanted None attribute spot = wrong spot NotInProfile

-- What is wrong with an attribute, by its prefix and its name.
unfoldable pub image_remark : Known → Ident → Ident → Remark
image_remark known prefix attribute =
    missing (visible known prefix.text) prefix also image_wanted (visible known prefix.text) attribute.text prefix.spot

-- What is wrong with Integer'Image of a value (3.5): the attribute, and the value, which is an Integer.
unfoldable pub image_value_remark : Known → Ident → Ident → ExpressionTree → Remark
image_value_remark known prefix attribute value =
    image_remark known prefix attribute also
    expression_remark known value also
    integer_wanted (expression_meant known value) (expression_spot value)

-- What is wrong with an argument, whatever it is for.
abbrev pub argument_remark : Known → ArgumentTree → Remark
argument_remark known (expression_argument e) = expression_remark known e
argument_remark known (text_argument spot text) = fine
argument_remark known (attribute_argument prefix attribute value) = image_value_remark known prefix attribute value

-- What is wrong with arguments, in order.
abbrev pub arguments_remark : Known → List ArgumentTree → Remark
arguments_remark known [] = fine
arguments_remark known (argument ∷ more) = argument_remark known argument also arguments_remark known more

-- A call takes one argument (6.4): any argument behind it is one too many, and the first of them is told.
abbrev pub none_wanted : List ArgumentTree → Remark
none_wanted [] = fine
none_wanted (argument ∷ more) = wrong (argument_spot argument) WrongType
