-- The graph of what the own declarations of bodies lead to: a node for each procedure, by its number, and behind these one for each type. An edge leads from
-- a body to the record type of each object that its own declarations create, and from a record type to what overrides its operations, and to the record types
-- of its declared components, where objects of these types have controlled parts.

use Rattle.std.specs.Prelude.{◌≡◌, ℕ, ◌+◌, nat_lt, if◌then◌else◌, List, [], ◌∷◌, ◌++◌, length, map, Option, Some, None, is_some}
use Rattle.std.specs.List.{slice_get}
use Rattle.ada_text.specs.declared.spot.Spot.{Spot}
use Rattle.ada_program.specs.declared.program.Operations.{Operations}
use Rattle.ada_program.specs.declared.program.PartKind.{PartKind}
use Rattle.ada_program.specs.declared.program.PartKind.TheVariants as part
use Rattle.ada_program.specs.declared.program.ProcedureNo.{ProcedureNo}
use Rattle.ada_program.specs.Form.{DeclarationForm}
use Rattle.ada_program.specs.ProgramForm.{PartForm, TypeForm, record_of, access_to, object_of, BodyForm, ProgramForm}
use Rattle.ada_program.specs.WellFormed.{finalization_of}
use Rattle.ada_circles.specs.Circles.{declaration_makes, LeadsTo}

-- An edge to the node of a record type, behind so many procedures: none, where its objects have no controlled parts.
abbrev pub to_type : List TypeForm → (procedures record_type : ℕ) → List ℕ
to_type types procedures t = if is_some (finalization_of types t) then (procedures + t) ∷ [] else []

-- An edge to the record type of an object, if one is created.
abbrev pub to_created : List TypeForm → (procedures : ℕ) → Option ℕ → List ℕ
to_created types procedures None = []
to_created types procedures (Some t) = to_type types procedures t

-- The edges to the record types of what declarations create.
abbrev pub to_declared : List TypeForm → (procedures : ℕ) → List DeclarationForm → List ℕ
to_declared types procedures [] = []
to_declared types procedures (d ∷ ds) = to_created types procedures (declaration_makes types d) ++ to_declared types procedures ds

-- An edge to what overrides an operation: none, where nothing does, or it is none of the procedures.
abbrev pub to_operation : (procedures : ℕ) → Option ProcedureNo → List ℕ
to_operation procedures None = []
to_operation procedures (Some procedure) = if nat_lt procedure.0 procedures then procedure.0 ∷ [] else []

-- The edges to what overrides the operations of a type.
abbrev pub to_operations : (procedures : ℕ) → Operations → List ℕ
to_operations procedures o = to_operation procedures o.initialize ++ (to_operation procedures o.adjust ++ to_operation procedures o.finalize)

-- An edge to the record type of a declared component, if it is a record.
abbrev pub to_part : List TypeForm → (procedures : ℕ) → PartKind → List ℕ
to_part types procedures (part.Elementary kind) = []
to_part types procedures (part.Record v) = to_type types procedures v.0
to_part types procedures part.Parent = []

-- The edges to those of declared components.
abbrev pub to_parts : List TypeForm → (procedures : ℕ) → List PartForm → List ℕ
to_parts types procedures [] = []
to_parts types procedures (p ∷ ps) = to_part types procedures p.kind ++ to_parts types procedures ps

-- The edges of a body.
abbrev pub from_body : List TypeForm → (procedures : ℕ) → BodyForm → List ℕ
from_body types procedures b = to_declared types procedures b.declarations

-- The edges of a type.
abbrev pub from_type : List TypeForm → (procedures : ℕ) → TypeForm → List ℕ
from_type types procedures (record_of name parts components None) = []
from_type types procedures (record_of name parts components (Some f)) = to_operations procedures f.operations ++ to_parts types procedures parts
from_type types procedures (access_to name designated pool) = []
from_type types procedures (object_of record_type) = []

-- The edges of bodies, and those of types.
abbrev pub from_bodies : List TypeForm → (procedures : ℕ) → List BodyForm → List (List ℕ)
from_bodies types procedures bodies = map (from_body types procedures) bodies

abbrev pub from_types : List TypeForm → (procedures : ℕ) → List TypeForm → List (List ℕ)
from_types types procedures rows = map (from_type types procedures) rows

-- The graph of a program.
abbrev pub edges : ProgramForm → List (List ℕ)
edges p = from_bodies p.types (length p.bodies) p.bodies ++ from_types p.types (length p.bodies) p.types

-- The body of the procedure of a number begins here, and leads back to itself.
abbrev pub HasCircleAt : ProgramForm → (number : ℕ) → (spot : Spot) → Type 0
HasCircleAt p number spot =
    (b : BodyForm) × (slice_get p.bodies number ≡ Some b) × (b.start_spot ≡ spot) × LeadsTo p (record { 0 = number }) (record { 0 = number })
