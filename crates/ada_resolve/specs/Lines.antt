-- Put_Line: what is wrong with a call of it, and what it writes.

use Rattle.std.specs.Prelude.{ℕ, List, [], ◌∷◌, Option, Some, None}
use Rattle.ada_text.specs.declared.spot.Spot.{Spot}
use Rattle.ada_tree.specs.Expressions.{ArgumentTree, expression_argument, text_argument, attribute_argument}
use Rattle.ada_program.specs.Form.{StmtForm, writes, writes_text}
use Rattle.ada_resolve.specs.declared.fault.NameRule.TheVariants.{WrongType}
use Rattle.ada_resolve.specs.Known.{Known}
use Rattle.ada_resolve.specs.Remark.{Remark, fine, wrong, ◌also◌}
use Rattle.ada_resolve.specs.Spots.{expression_spot}
use Rattle.ada_resolve.specs.Arguments.{arguments_remark, image_value_remark, none_wanted}
use Rattle.ada_resolve.specs.Expressions.{expression_meant, expression_remark}
use Rattle.ada_resolve.specs.Operators.{integer_in}

-- What Put_Line writes is a text or Integer'Image (A.10.7): no other value is a String.
abbrev pub line_remark : Known → ArgumentTree → Remark
line_remark known (expression_argument e) = wrong (expression_spot e) WrongType also expression_remark known e
line_remark known (text_argument spot text) = fine
line_remark known (attribute_argument prefix attribute value) = image_value_remark known prefix attribute value

-- What Put_Line does, or `None` where something is wrong. A text gets the number of texts before it.
abbrev pub line_found : Known → ℕ → ArgumentTree → Option StmtForm
line_found known texts (expression_argument e) = None
line_found known texts (text_argument spot text) = Some (writes_text texts)
line_found known texts (attribute_argument prefix attribute value) = Some (writes (integer_in (expression_meant known value)))

-- What is wrong with the actuals of Put_Line, which is called here.
unfoldable pub put_line_remark : Known → Spot → List ArgumentTree → Remark
put_line_remark known called [] = wrong called WrongType
put_line_remark known called (argument ∷ more) = line_remark known argument also none_wanted more also arguments_remark known more

-- What a call of Put_Line does, or `None` where something is wrong.
unfoldable pub put_line_found : Known → ℕ → List ArgumentTree → Option StmtForm
put_line_found known texts [] = None
put_line_found known texts (argument ∷ more) = line_found known texts argument
