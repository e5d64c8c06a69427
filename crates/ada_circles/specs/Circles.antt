-- Which bodies lead back to themselves by what their own declarations create: an object whose parts have operations that bodies override (7.6, 3.3.1, 4.8). What
-- declarations create is created whenever their body runs: so such a body would be called inside itself again and again.

use Rattle.std.specs.Prelude.{◌≡◌, ◌⊎◌, ℕ, List, Option, Some, None}
use Rattle.std.specs.List.{slice_get}
use Rattle.ada_text.specs.declared.spot.Spot.{Spot}
use Rattle.ada_program.specs.declared.program.Finalization.{Finalization}
use Rattle.ada_program.specs.declared.program.Operations.{Operations}
use Rattle.ada_program.specs.declared.program.ProcedureNo.{ProcedureNo}
use Rattle.ada_program.specs.Form.{RightForm, nothing, value_of, allocates, allocates_default, computes, DeclarationForm, creates_pool, collects, declares, declares_record}
use Rattle.ada_program.specs.ProgramForm.{TypeForm, BodyForm, ProgramForm}
use Rattle.ada_program.specs.Walks.{Walks}
use Rattle.ada_program.specs.WellFormed.{finalization_of, object_named}
use Rattle.ada_quiet.specs.First.{IsFirst}

-- A procedure overrides one of the operations of a type: Initialize, Adjust or Finalize (7.6).
abbrev pub Overrides : Operations → (procedure : ProcedureNo) → Type 0
Overrides o procedure = (o.initialize ≡ Some procedure) ⊎ ((o.adjust ≡ Some procedure) ⊎ (o.finalize ≡ Some procedure))

-- It overrides one of a record that lies in the objects of a record type, the whole object included (3.8, 7.6).
abbrev pub OverridesWithin : List TypeForm → (record_type : ℕ) → (procedure : ProcedureNo) → Type 0
OverridesWithin types t procedure =
    (u first part : ℕ) × (f : Finalization) × Walks types t first part u × (finalization_of types u ≡ Some f) × Overrides f.operations procedure

-- The record type of the new object that is assigned, if it is one (4.8).
abbrev pub right_makes : List TypeForm → RightForm → Option ℕ
right_makes types nothing = None
right_makes types (value_of path) = None
right_makes types (allocates access items) = object_named types (Some access)
right_makes types (allocates_default access) = object_named types (Some access)
right_makes types (computes e) = None

-- The record type of the object that a declaration creates, if it creates one: the declared object, or what a variable is given at first (3.3.1).
abbrev pub declaration_makes : List TypeForm → DeclarationForm → Option ℕ
declaration_makes types (creates_pool p) = None
declaration_makes types (collects access) = None
declaration_makes types (declares x right) = right_makes types right
declaration_makes types (declares_record x t initial) = object_named types (Some t)

-- The own declarations of a procedure's body create an object of a record type.
abbrev pub Creates : ProgramForm → (procedure : ProcedureNo) → (record_type : ℕ) → Type 0
Creates p procedure t =
    (b : BodyForm) × (i : ℕ) × (d : DeclarationForm) × (slice_get p.bodies procedure.0 ≡ Some b) × (slice_get b.declarations i ≡ Some d)
    × (declaration_makes p.types d ≡ Some t)

-- So they lead to what overrides an operation of a part of that object.
abbrev pub Leads : ProgramForm → (procedure other : ProcedureNo) → Type 0
Leads p procedure other = (t : ℕ) × Creates p procedure t × OverridesWithin p.types t other

-- A procedure leads to another one, directly or by way of others.
pub data LeadsTo (p : ProgramForm) (procedure : ProcedureNo) : (other : ProcedureNo) → Type 0 where
  leads : {other : ProcedureNo} → Leads p procedure other → LeadsTo p procedure other
  leads_on : {between other : ProcedureNo} → LeadsTo p procedure between → Leads p between other → LeadsTo p procedure other

-- The body of a procedure that leads back to itself begins here.
abbrev pub HasCircle : ProgramForm → (spot : Spot) → Type 0
HasCircle p spot =
    (procedure : ProcedureNo) × (b : BodyForm) × (slice_get p.bodies procedure.0 ≡ Some b) × (b.start_spot ≡ spot) × LeadsTo p procedure procedure

-- Where the first one in the text begins, or that there is none.
abbrev pub IsFirstCircle : ProgramForm → Option Spot → Type 0
IsFirstCircle p = IsFirst (HasCircle p)
