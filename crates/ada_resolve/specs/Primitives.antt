-- The operations Initialize, Adjust and Finalize of controlled types (7.6): which a procedure is, those that a part specifies, and what types override.

use Rattle.std.specs.Prelude.{ℕ, ◌+◌, ◌-◌, ◌==◌, Bool, true, false, ◌&&◌, not, nat_le, if◌then◌else◌, List, [], ◌∷◌, Option, Some, None, slice_get, slice_set, codes, bytes_eq}
use Rattle.ada_tree.specs.Declarations.{FormalTree}
use Rattle.ada_program.specs.Controlled.{operations_in}
use Rattle.ada_program.specs.ProgramForm.{PartForm, TypeForm, record_of, access_to, object_of, VariableForm}
use Rattle.ada_program.specs.WellFormed.{finalization_of, object_in}
use Rattle.ada_program.specs.declared.program.Finalization.{Finalization}
use Rattle.ada_program.specs.declared.program.FormalMode.{FormalMode}
use Rattle.ada_program.specs.declared.program.FormalMode.TheVariants.{InOut}
use Rattle.ada_program.specs.declared.program.Operations.{Operations}
use Rattle.ada_program.specs.declared.program.PartKind.{PartKind}
use Rattle.ada_program.specs.declared.program.PartKind.TheVariants as part
use Rattle.ada_program.specs.declared.program.ProcedureNo.{ProcedureNo}
use Rattle.ada_program.specs.declared.program.VariableKind.{VariableKind}
use Rattle.ada_program.specs.declared.program.VariableKind.TheVariants as variable
use Rattle.ada_resolve.specs.declared.primitives.Operation.{Operation}
use Rattle.ada_resolve.specs.declared.primitives.Operation.TheVariants.{Initialize, Adjust, Finalize}
use Rattle.ada_resolve.specs.declared.scope.Entity.{Entity}
use Rattle.ada_resolve.specs.Instances.{is_among}
use Rattle.ada_resolve.specs.Known.{Known, Named, Specified, Specifications, entered}

-- The operation of a name (7.6), if it is one of the three.
unfoldable pub operation_named : List ℕ → Option Operation
operation_named text =
    if bytes_eq text (codes "INITIALIZE") then Some Initialize else (
    if bytes_eq text (codes "ADJUST") then Some Adjust else (
    if bytes_eq text (codes "FINALIZE") then Some Finalize else None))

-- Which types may have an operation.

-- Whether a declared component is the parent part of a controlled type.
abbrev pub is_parent_part : PartKind → Bool
is_parent_part part.Parent = true
is_parent_part (part.Record t) = false
is_parent_part (part.Elementary kind) = false

-- Whether declared components begin with such a part.
abbrev pub begins_with_parent : List PartForm → Bool
begins_with_parent [] = false
begins_with_parent (c ∷ cs) = is_parent_part c.kind

-- Whether a type is controlled: derived from Controlled or Limited_Controlled.
abbrev pub is_controlled_type : Option TypeForm → Bool
is_controlled_type (Some (record_of name parts components finalization)) = begins_with_parent parts
is_controlled_type (Some (access_to name designated pool)) = false
is_controlled_type (Some (object_of record_type)) = false
is_controlled_type None = false

-- Whether a controlled type has an operation: only one that is not derived from Limited_Controlled has Adjust.
abbrev pub exists_for : Operation → (limited : Bool) → Bool
exists_for Adjust limited = not limited
exists_for Initialize limited = true
exists_for Finalize limited = true

-- Whether the type of a number is a controlled type of the innermost part, which has the operation.
unfoldable pub has_operation : Known → Operation → ℕ → Bool
has_operation known operation t =
    nat_le known.here.first_type t && is_controlled_type (slice_get known.types t) && exists_for operation (is_among t known.limited)

-- The record type of the one formal parameter, of mode `in out`, by the modes of all and by the types by which the records among them are known (6.1).
abbrev pub sole_operand : List FormalMode → List TypeForm → Option ℕ
sole_operand (InOut ∷ []) (object_of t ∷ []) = Some t
sole_operand modes types = None

-- That type, where it may have the operation.
abbrev pub operand_if : Known → Operation → Option ℕ → Option ℕ
operand_if known operation None = None
operand_if known operation (Some t) = if has_operation known operation t then Some t else None

-- The type of which a procedure with such formal parameters is the operation (7.6): it has one, of mode `in out`, whose type is a controlled type of the
-- innermost part that has the operation.
unfoldable pub operand : Known → Operation → List FormalMode → List TypeForm → Option ℕ
operand known operation modes types = operand_if known operation (sole_operand modes types)

-- Whether an operation of a type keeps its operand, which is its formal parameter (the profile's): that of a type derived from Controlled does. It may
-- change components of the operand, but not the operand as a whole: an assignment would finalize the value again that Finalize is finalizing (7.6).
abbrev pub operand_kept : Known → Option ℕ → Bool
operand_kept known None = false
operand_kept known (Some t) = not (is_among t known.limited)

-- The type of the record for which a formal parameter stands.
abbrev pub operand_by : List TypeForm → VariableKind → Option ℕ
operand_by types (variable.Record own) = object_in (slice_get types own.0)
operand_by types (variable.Access t) = None
operand_by types variable.Integer = None
operand_by types variable.Boolean = None

-- What the one formal parameter of a body holds, of mode `in out`, by the modes of all and by the variables: it is the first of these.
abbrev pub sole_changed : List FormalMode → List VariableForm → Option VariableKind
sole_changed (InOut ∷ []) (v ∷ vs) = Some v.kind
sole_changed modes variables = None

-- The type of the record for which a formal parameter stands, where there is one that holds this.
abbrev pub operand_held : List TypeForm → Option VariableKind → Option ℕ
operand_held types (Some kind) = operand_by types kind
operand_held types None = None

-- The type of which a body of an operation is one, by the modes of its formal parameters and by its variables: that of its one formal parameter.
abbrev pub operand_of : List TypeForm → List FormalMode → List VariableForm → Option ℕ
operand_of types modes variables = operand_held types (sole_changed modes variables)

-- The specifications of a part.

-- The specifications of an operation.
abbrev pub specified_for : Operation → Specifications → List Specified
specified_for Initialize specified = specified.initializes
specified_for Adjust specified = specified.adjusts
specified_for Finalize specified = specified.finalizes

-- The name of the formal parameter in the specification for a type, where it has one among these.
abbrev pub formal_specified : ℕ → List Specified → Option (List ℕ)
formal_specified t [] = None
formal_specified t (s ∷ ss) = if t == s.record_type then Some s.formal else formal_specified t ss

-- These with one more for a type: in the place of the one that it has, else last.
abbrev pub specified_with : ℕ → List ℕ → List Specified → List Specified
specified_with t formal [] = record { record_type = t; formal = formal } ∷ []
specified_with t formal (s ∷ ss) =
    if t == s.record_type then record { record_type = s.record_type; formal = formal } ∷ ss else s ∷ specified_with t formal ss

-- The specifications where those of an operation are these.
abbrev pub with_specified : Operation → List Specified → Specifications → Specifications
with_specified Initialize these specified = record specified { initializes = these }
with_specified Adjust these specified = record specified { adjusts = these }
with_specified Finalize these specified = record specified { finalizes = these }

-- The specifications with one more of an operation of a type, which waits for its body.
abbrev pub specified_more : Operation → ℕ → List ℕ → Specifications → Specifications
specified_more operation t formal specified =
    record (with_specified operation (specified_with t formal (specified_for operation specified)) specified) {
      count = specified.count + 1;
      awaited = specified.awaited + 1;
    }

-- The specifications once the body of an operation has ended: one less waits.
abbrev pub answered : Option Operation → Specifications → Specifications
answered None specified = specified
answered (Some operation) specified = record specified { awaited = specified.awaited - 1 }

-- The name of the first formal parameter that is written.
abbrev pub formal_name : List FormalTree → List ℕ
formal_name [] = []
formal_name (f ∷ fs) = f.name.text

-- What types override.

-- What overrides an operation, where it is not inherited.
abbrev pub chosen : Operation → Operations → Option ProcedureNo
chosen Initialize operations = operations.initialize
chosen Adjust operations = operations.adjust
chosen Finalize operations = operations.finalize

-- What overrides an operation of the type of a number.
unfoldable pub overrider : Operation → List TypeForm → ℕ → Option ProcedureNo
overrider operation types t = chosen operation (operations_in (finalization_of types t))

-- The operations of a type once a procedure overrides one of them.
abbrev pub with_chosen : Operation → ProcedureNo → Operations → Operations
with_chosen Initialize procedure operations = record operations { initialize = Some procedure }
with_chosen Adjust procedure operations = record operations { adjust = Some procedure }
with_chosen Finalize procedure operations = record operations { finalize = Some procedure }

-- How objects of a record type are finalized once a procedure overrides an operation of it.
abbrev pub finalized_by : Operation → ProcedureNo → Option Finalization → Option Finalization
finalized_by operation procedure None = None
finalized_by operation procedure (Some f) = Some (record f { operations = with_chosen operation procedure f.operations })

-- A type once a procedure overrides an operation of it, where it is a record type.
abbrev pub type_overridden : Operation → ProcedureNo → TypeForm → TypeForm
type_overridden operation procedure (record_of name parts components finalization) =
    record_of name parts components (finalized_by operation procedure finalization)
type_overridden operation procedure (access_to name designated pool) = access_to name designated pool
type_overridden operation procedure (object_of record_type) = object_of record_type

-- The types once a procedure overrides an operation of one of them.
abbrev pub overridden_by : Option TypeForm → Operation → ProcedureNo → List TypeForm → ℕ → List TypeForm
overridden_by (Some form) operation procedure types t = slice_set types t (type_overridden operation procedure form)
overridden_by None operation procedure types t = types

-- The types once a procedure overrides an operation of the type of a number.
unfoldable pub overridden : Operation → ProcedureNo → List TypeForm → ℕ → List TypeForm
overridden operation procedure types t = overridden_by (slice_get types t) operation procedure types t

-- The types behind the body of a procedure: where it is an operation of a type that is known, it overrides that.
abbrev pub overridden_if : Option Operation → ProcedureNo → Option ℕ → List TypeForm → List TypeForm
overridden_if (Some operation) procedure (Some t) types = overridden operation procedure types t
overridden_if (Some operation) procedure None types = types
overridden_if None procedure t types = types

-- What names stand for.

-- The names once this one stands for that, unless it is an operation's, under which nothing is declared.
abbrev pub entered_unless : Option Operation → List ℕ → Entity → List Named → List Named
entered_unless None text entity names = entered text entity names
entered_unless (Some operation) text entity names = names

-- What is known once a name stands for that, unless it is an operation's.
abbrev pub declared_unless : Option Operation → Known → List ℕ → Entity → Known
declared_unless operation known text entity = record known { here = record known.here { names = entered_unless operation text entity known.here.names } }
