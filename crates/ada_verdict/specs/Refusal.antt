-- What is printed of a fault: where it is, the number of its rule, and the rule's name.

use Rattle.std.specs.Prelude.{ℕ, List, Option, Some, None}
use Rattle.ada_text.specs.declared.fault.TextFault.{TextFault}
use Rattle.ada_text.specs.declared.fault.TextFault.TheVariants as text
use Rattle.ada_text.specs.declared.spot.Spot.{Spot}
use Rattle.ada_flow.specs.declared.rule.Rule.{Rule}
use Rattle.ada_flow.specs.declared.rule.Rule.TheVariants as rule
use Rattle.ada_flow.specs.declared.fault.FlowFault.TheVariants as flow
use Rattle.ada_operations.specs.declared.fault.OperationFault.{OperationFault}
use Rattle.ada_operations.specs.declared.fault.OperationFault.TheVariants as operations
use Rattle.ada_operations.specs.declared.rule.OperationRule.{OperationRule}
use Rattle.ada_operations.specs.declared.rule.OperationRule.TheVariants as operation
use Rattle.ada_resolve.specs.declared.fault.NameFault.TheVariants as names
use Rattle.ada_resolve.specs.declared.fault.NameRule.{NameRule}
use Rattle.ada_resolve.specs.declared.fault.NameRule.TheVariants as name
use Rattle.ada_parser.specs.declared.fault.SyntaxFault.{SyntaxFault}
use Rattle.ada_parser.specs.declared.fault.SyntaxFault.TheVariants as syntax
use Rattle.ada_verdict.specs.declared.fault.RoundFault.{RoundFault}
use Rattle.ada_verdict.specs.declared.fault.RoundFault.TheVariants as round
use Rattle.ada_verdict.specs.declared.fault.UnusedFault.{UnusedFault}
use Rattle.ada_verdict.specs.declared.fault.UnusedFault.TheVariants as unused
use Rattle.ada_verdict.specs.declared.fault.Verdict.{Verdict}
use Rattle.ada_verdict.specs.declared.fault.Verdict.TheVariants as verdict
use Rattle.ada_verdict.specs.declared.rules.TheConstants as rules

-- A place, and the number and name of the rule that is broken there.
pub record Told : Type 0 where
  pub line : ℕ
  pub column : ℕ
  pub name : List ℕ

-- A rule that is broken at a spot.
abbrev pub told : Spot → List ℕ → Option Told
told spot text = Some (record { line = spot.line; column = spot.column; name = text })

-- A fault of the text; one of the whole source stands at its beginning.
abbrev pub text_told : TextFault → Option Told
text_told (text.ByteNotAllowed spot) = told spot rules.BYTE_NOT_ALLOWED.now
text_told (text.OpenString spot) = told spot rules.OPEN_STRING.now
text_told (text.NumberRange spot) = told spot rules.NUMBER_RANGE.now
text_told text.SourceTooLong = Some (record { line = 1; column = 1; name = rules.SOURCE_TOO_LONG.now })
text_told (text.IdentifierForm spot) = told spot rules.IDENTIFIER_FORM.now
text_told text.NoMemory = None

-- A fault of the syntax.
abbrev pub syntax_told : SyntaxFault → Option Told
syntax_told (syntax.UnexpectedToken spot) = told spot rules.UNEXPECTED_TOKEN.now
syntax_told (syntax.TooDeep spot) = told spot rules.TOO_DEEP.now
syntax_told (syntax.EndOfSource spot) = told spot rules.END_OF_SOURCE.now
syntax_told syntax.NoMemory = None

-- The rules of names.
abbrev pub name_text : NameRule → List ℕ
name_text name.UnknownName = rules.UNKNOWN_NAME.now
name_text name.DeclaredTwice = rules.DECLARED_TWICE.now
name_text name.WrongType = rules.WRONG_TYPE.now
name_text name.NotInProfile = rules.NOT_IN_PROFILE.now
name_text name.Layout = rules.LAYOUT.now
name_text name.NoInitialValue = rules.NO_INITIAL_VALUE.now
name_text name.BodyMissing = rules.BODY_MISSING.now
name_text name.Limit = rules.LIMIT.now

-- An Initialize or an Adjust that calls itself.
abbrev pub round_told : RoundFault → Option Told
round_told (round.CallsItself spot) = told spot rules.NOT_IN_PROFILE.now
round_told round.NoMemory = None

-- The rules on operations of controlled types.
abbrev pub operation_text : OperationRule → List ℕ
operation_text operation.FinalizeOrder = rules.FINALIZE_ORDER.now
operation_text operation.MayPropagate = rules.MAY_PROPAGATE.now
operation_text operation.FinalizeAllocates = rules.FINALIZE_ALLOCATES.now

-- A fault of them.
abbrev pub operation_told : OperationFault → Option Told
operation_told (operations.Broken spot broken) = told spot (operation_text broken)
operation_told operations.NoMemory = None

-- An operation that is not in use, or a body that leads back to itself.
abbrev pub unused_told : UnusedFault → Option Told
unused_told (unused.Operation spot) = told spot rules.NOT_IN_PROFILE.now
unused_told (unused.Circle spot) = told spot rules.NOT_IN_PROFILE.now
unused_told unused.NoMemory = None

-- The rules of the flow of values.
abbrev pub rule_text : Rule → List ℕ
rule_text rule.LostValue = rules.LOST_VALUE.now
rule_text rule.AliasMoved = rules.ALIAS_MOVED.now
rule_text rule.TakePair = rules.TAKE_PAIR.now
rule_text rule.LoopState = rules.LOOP_STATE.now
rule_text rule.UnsafePath = rules.UNSAFE_PATH.now
rule_text rule.FormalNotOwned = rules.FORMAL_NOT_OWNED.now
rule_text rule.RecordCopied = rules.RECORD_COPIED.now

-- Where a source is refused, by which rule; nothing where memory ran out.
abbrev pub refusal_of : Verdict → Option Told
refusal_of (verdict.Text fault) = text_told fault
refusal_of (verdict.Syntax fault) = syntax_told fault
refusal_of (verdict.Names (names.Broken spot broken)) = told spot (name_text broken)
refusal_of (verdict.Names names.NoMemory) = None
refusal_of (verdict.EarlyRound spot) = told spot rules.NOT_IN_PROFILE.now
refusal_of (verdict.Rounds fault) = round_told fault
refusal_of (verdict.Operations fault) = operation_told fault
refusal_of (verdict.Unused fault) = unused_told fault
refusal_of (verdict.Flow (flow.Broken spot broken)) = told spot (rule_text broken)
refusal_of (verdict.Flow flow.NoMemory) = None
