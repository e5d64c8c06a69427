-- What the code keeps and answers.

use Rattle.std.specs.Prelude.{◌≡◌, ◌↔◌, ◌⊎◌, ℕ, ◌+◌, ◌<◌, Bool, true, false, not, ◌&&◌, ◌||◌, nat_lt, if◌then◌else◌, List, [], ◌∷◌, ◌++◌, length, map, slice_index_or, slice_set, Option, Some, None, is_some, Result, Ok, Err}
use Rattle.std.specs.List.{slice_get}
use Rattle.ada_text.specs.declared.spot.Spot.{Spot}
use Rattle.ada_deeds.specs.Does.{Does}
use Rattle.ada_deeds.specs.Rows.{does_in}
use Rattle.ada_deeds.specs.declared.deed.Callee.{Callee}
use Rattle.ada_deeds.specs.declared.deed.Callee.TheVariants as callee
use Rattle.ada_deeds.specs.declared.deed.Deed.{Deed}
use Rattle.ada_deeds.specs.declared.deed.Deed.TheVariants as deed
use Rattle.ada_deeds.specs.declared.deed.Operation.{Operation}
use Rattle.ada_deeds.specs.declared.deed.Operation.TheVariants.{Adjust, Finalize}
use Rattle.ada_deeds.specs.declared.deeds.Deeds.{Deeds}
use Rattle.ada_operations.specs.Created.{collections_of, or_alone, place_of, precedes}
use Rattle.ada_operations.specs.Operations.{overriding_in, UsesTooLate, rule_number, IsFirstFault, is_before}
use Rattle.ada_operations.specs.declared.fault.Fault.{Fault}
use Rattle.ada_operations.specs.declared.fault.OperationFault.{OperationFault}
use Rattle.ada_operations.specs.declared.fault.OperationFault.TheVariants.{Broken, NoMemory}
use Rattle.ada_operations.specs.declared.facts.Facts.{Facts}
use Rattle.ada_operations.specs.declared.places.Place.{Place}
use Rattle.ada_operations.specs.declared.rule.OperationRule.{OperationRule}
use Rattle.ada_operations.specs.declared.rule.OperationRule.TheVariants.{FinalizeOrder, MayPropagate, FinalizeAllocates}
use Rattle.ada_program.specs.declared.program.Exception.{Exception}
use Rattle.ada_program.specs.declared.program.PartKind.{PartKind}
use Rattle.ada_program.specs.declared.program.PartKind.TheVariants as part
use Rattle.ada_program.specs.declared.program.ProcedureNo.{ProcedureNo}
use Rattle.ada_program.specs.ProgramForm.{PartForm, TypeForm, record_of, access_to, object_of, BodyForm, ProgramForm}
use Rattle.ada_program.specs.WellFormed.{designated_type, finalization_of}
use Rattle.ada_reach.specs.View.{graph_of}

-- Where collections are created: a table by the numbers of types, in which a place is kept once it is there.

-- A place is entered for a type, if it has none yet.
abbrev pub with_place : (access : ℕ) → Place → List (Option Place) → List (Option Place)
with_place t place table = if nat_lt t (length table) && not (is_some (slice_index_or table t None)) then slice_set table t (Some place) else table

-- The places of these collections are, in a part, behind some others.
abbrev pub with_places : (part order : ℕ) → List ℕ → List (Option Place) → List (Option Place)
with_places part order [] table = table
with_places part order (u ∷ us) table = with_places part (order + 1) us (with_place u (record { part = part; order = order }) table)

-- Those of a part are.
abbrev pub with_part : List ℕ → List (Option Place) → List (Option Place)
with_part [] table = table
with_part (u ∷ us) table = with_places u 0 (u ∷ us) table

-- Those of some parts are.
abbrev pub with_parts : (parts : List (List ℕ)) → List (Option Place) → List (Option Place)
with_parts [] table = table
with_parts (us ∷ parts) table = with_parts parts (with_part us table)

-- Where the collection of an access type is created, by the table.
abbrev pub place_at : List (Option Place) → (access : ℕ) → Place
place_at table t = or_alone t (slice_index_or table t None)

-- Which types the components of records have.

-- Those of a declared component.
abbrev pub type_within : PartKind → List ℕ
type_within (part.Elementary kind) = []
type_within (part.Record t) = t.0 ∷ []
type_within part.Parent = []

-- Those of declared components.
abbrev pub component_types : List PartForm → List ℕ
component_types [] = []
component_types (p ∷ ps) = type_within p.kind ++ component_types ps

-- Those of a type's objects.
abbrev pub types_within : TypeForm → List ℕ
types_within (record_of name parts components finalization) = component_types parts
types_within (access_to name designated pool) = []
types_within (object_of record_type) = []

-- What is known of a program before its operations are examined: who does what, where its collections are created, and which types lie in which.
pub record Knows (p : ProgramForm) (facts : Facts) : Type 0 where
  pub deeds : (d : Deed) (c : Callee) → (does_in facts.deeds d c ≡ true) ↔ Does p d c
  pub size : length facts.places.table.items ≡ length p.types
  pub places : (t : ℕ) → t < length p.types → place_at facts.places.table.items t ≡ place_of (collections_of p) t
  pub graph : graph_of facts.graph.items ≡ map types_within p.types

-- Does a procedure use an access type, by what is known?
abbrev pub uses_in : Deeds → (procedure : ProcedureNo) → (access : ℕ) → Bool
uses_in deeds procedure u =
    does_in deeds (deed.Frees (record { 0 = u })) (callee.Procedure procedure) || does_in deeds (deed.Follows (record { 0 = u })) (callee.Procedure procedure)

-- The collection of one of the first types is created here, and the procedure uses the type.
abbrev pub IsUsedAt : Facts → (procedure : ProcedureNo) → (count : ℕ) → Place → Type 0
IsUsedAt facts procedure count place = (u : ℕ) × (u < count) × (uses_in facts.deeds procedure u ≡ true) × (place ≡ place_at facts.places.table.items u)

-- The last one of some places, or that there is none.
abbrev pub IsLast : (places : Place → Type 0) → Option Place → Type 0
IsLast places None = (place : Place) → ¬ (places place)
IsLast places (Some place) = places place × ((other : Place) → places other → precedes place other ≡ false)

-- The later one of two places, where they are there.
abbrev pub later_of : Option Place → Option Place → Option Place
later_of None other = other
later_of (Some place) None = Some place
later_of (Some place) (Some other) = if precedes place other then Some other else Some place

-- The type that an access type designates (3.10), if its collection is not created behind a place.
abbrev pub begun_type : List TypeForm → List (Option Place) → Place → (access : ℕ) → Option ℕ
begun_type types table place t = if precedes place (place_at table t) then None else designated_type types t

-- One of the first types designates this type, and its collection is not created behind a place.
abbrev pub IsBegun : List TypeForm → List (Option Place) → Place → (count : ℕ) → (whole : ℕ) → Type 0
IsBegun types table place count whole = (t : ℕ) × (t < count) × (begun_type types table place t ≡ Some whole)

-- The faults of the bodies of operations.

-- An operation of a record type breaks a rule by this procedure's body.
abbrev pub BreaksIn : ProgramForm → (procedure : ProcedureNo) → Operation → (record_type : ℕ) → OperationRule → Type 0
BreaksIn p procedure operation r FinalizeOrder = UsesTooLate p procedure r
BreaksIn p procedure operation r MayPropagate = (e : Exception) × Does p (deed.Raises e) (callee.Procedure procedure)
BreaksIn p procedure operation r FinalizeAllocates = (operation ≡ Finalize) × Does p deed.Allocates (callee.Procedure procedure)

-- The rule with the least number that is broken, or that none is.
abbrev pub IsFirstRule : (broken : OperationRule → Type 0) → Option OperationRule → Type 0
IsFirstRule broken None = (rule : OperationRule) → ¬ (broken rule)
IsFirstRule broken (Some rule) = broken rule × ((other : OperationRule) → broken other → nat_lt (rule_number other) (rule_number rule) ≡ false)

-- A fault of what overrides an operation of a record type: its body begins there, and breaks the rule.
abbrev pub HasFaultIn : ProgramForm → Option ProcedureNo → Operation → (record_type : ℕ) → Spot × OperationRule → Type 0
HasFaultIn p o operation r f = (procedure : ProcedureNo) × (o ≡ Some procedure) × ((b : BodyForm) × (slice_get p.bodies procedure.0 ≡ Some b) × (b.start_spot ≡ f.0)
    × BreaksIn p procedure operation r f.1)

-- A fault of what overrides Adjust or Finalize of a record type.
abbrev pub HasFaultAt : ProgramForm → (record_type : ℕ) → Spot × OperationRule → Type 0
HasFaultAt p r f = HasFaultIn p (overriding_in Adjust (finalization_of p.types r)) Adjust r f ⊎ HasFaultIn p (overriding_in Finalize (finalization_of p.types r)) Finalize r f

-- A fault, as the code keeps it.
abbrev pub fault_form : Fault → Spot × OperationRule
fault_form f = (f.spot, f.rule)

-- So it is with a fault that is there.
abbrev pub found_form : Option Fault → Option (Spot × OperationRule)
found_form None = None
found_form (Some f) = Some (fault_form f)

-- The first one of some faults, or that there is none.
abbrev pub IsFirst : (faults : Spot × OperationRule → Type 0) → Option (Spot × OperationRule) → Type 0
IsFirst faults None = (f : Spot × OperationRule) → ¬ (faults f)
IsFirst faults (Some f) = faults f × ((g : Spot × OperationRule) → faults g → is_before g f ≡ false)

-- The first one of two faults, where they are there.
abbrev pub first_of : Option (Spot × OperationRule) → Option (Spot × OperationRule) → Option (Spot × OperationRule)
first_of None g = g
first_of (Some f) None = Some f
first_of (Some f) (Some g) = if is_before g f then Some g else Some f

-- The answer for a program is that it has no fault, or its first one. Of want of memory nothing is said.
abbrev pub Answers : {X : Type 0} → ProgramForm → Result X OperationFault → Type 0
Answers p (Ok x) = IsFirstFault p None
Answers p (Err (Broken spot rule)) = IsFirstFault p (Some (spot, rule))
Answers p (Err NoMemory) = Unit {0}
