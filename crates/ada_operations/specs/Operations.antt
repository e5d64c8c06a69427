-- What the bodies that override operations of controlled types must not do (7.6, 7.6.1).

use Rattle.std.specs.Prelude.{◌≡◌, ◌⊎◌, ℕ, Bool, true, false, ◌&&◌, ◌||◌, ◌==◌, nat_lt, List, Option, Some, None}
use Rattle.std.specs.List.{list_any, slice_get}
use Rattle.ada_text.specs.declared.spot.Spot.{Spot}
use Rattle.ada_deeds.specs.Does.{Does}
use Rattle.ada_deeds.specs.Forms.{overriding}
use Rattle.ada_deeds.specs.declared.deed.Callee.TheVariants as callee
use Rattle.ada_deeds.specs.declared.deed.Deed.TheVariants as deed
use Rattle.ada_deeds.specs.declared.deed.Operation.{Operation}
use Rattle.ada_deeds.specs.declared.deed.Operation.TheVariants.{Adjust, Finalize}
use Rattle.ada_operations.specs.declared.rule.OperationRule.{OperationRule}
use Rattle.ada_operations.specs.declared.rule.OperationRule.TheVariants.{FinalizeOrder, MayPropagate, FinalizeAllocates}
use Rattle.ada_operations.specs.Created.{collections_of, is_created_before}
use Rattle.ada_program.specs.declared.program.Exception.{Exception}
use Rattle.ada_program.specs.declared.program.Finalization.{Finalization}
use Rattle.ada_program.specs.declared.program.PartKind.{PartKind}
use Rattle.ada_program.specs.declared.program.PartKind.TheVariants as part
use Rattle.ada_program.specs.declared.program.ProcedureNo.{ProcedureNo}
use Rattle.ada_program.specs.declared.program.TypeNo.{TypeNo}
use Rattle.ada_program.specs.ProgramForm.{TypeForm, record_of, access_to, object_of, BodyForm, ProgramForm}
use Rattle.ada_program.specs.WellFormed.{designated_type, finalization_of}

-- Which procedure overrides an operation of a record type, where one does (7.6).
abbrev pub overriding_in : Operation → Option Finalization → Option ProcedureNo
overriding_in operation None = None
overriding_in operation (Some f) = overriding operation f.operations

-- A procedure overrides this operation of this record type.
abbrev pub Overrides : ProgramForm → (procedure : ProcedureNo) → Operation → (record_type : ℕ) → Type 0
Overrides p procedure operation r = overriding_in operation (finalization_of p.types r) ≡ Some procedure

-- It overrides Adjust or Finalize.
abbrev pub AdjustsOrFinalizes : ProgramForm → (procedure : ProcedureNo) → (record_type : ℕ) → Type 0
AdjustsOrFinalizes p procedure r = Overrides p procedure Adjust r ⊎ Overrides p procedure Finalize r

-- A declared component is a record of this type (3.8).
abbrev pub is_record_of : ℕ → PartKind → Bool
is_record_of r (part.Elementary kind) = false
is_record_of r (part.Record t) = t.0 == r
is_record_of r part.Parent = false

-- A record type has a component of this type.
abbrev pub has_component : Option TypeForm → (record_type : ℕ) → Bool
has_component None r = false
has_component (Some (record_of name parts components finalization)) r = list_any (λ c. is_record_of r c.kind) parts
has_component (Some (access_to name designated pool)) r = false
has_component (Some (object_of record_type)) r = false

-- Objects of a type have a part of this record type, at any depth: they are of it themselves, or have a component with such a part.
pub data HasPart (types : List TypeForm) (record_type : ℕ) : (whole : ℕ) → Type 0 where
  itself : HasPart types record_type record_type
  within : {component whole : ℕ} → HasPart types record_type component → has_component (slice_get types whole) component ≡ true → HasPart types record_type whole

-- A procedure frees objects of an access type (13.11.2), or follows its values (4.1).
abbrev pub Uses : ProgramForm → (procedure : ProcedureNo) → (access : ℕ) → Type 0
Uses p procedure u = Does p (deed.Frees (record { 0 = u })) (callee.Procedure procedure) ⊎ Does p (deed.Follows (record { 0 = u })) (callee.Procedure procedure)

-- It uses an access type whose collection is not created before that of some access type, the objects of which have a part of a record type: where that
-- collection ends, the objects that are used may be gone (7.6.1).
abbrev pub UsesTooLate : ProgramForm → (procedure : ProcedureNo) → (record_type : ℕ) → Type 0
UsesTooLate p procedure r = (u : ℕ) × Uses p procedure u × ((t whole : ℕ) × (designated_type p.types t ≡ Some whole) × HasPart p.types r whole
    × (is_created_before (collections_of p) u t ≡ false))

-- A procedure breaks a rule on operations.
abbrev pub BreaksRule : ProgramForm → (procedure : ProcedureNo) → OperationRule → Type 0
BreaksRule p procedure FinalizeOrder = (r : ℕ) × AdjustsOrFinalizes p procedure r × UsesTooLate p procedure r
BreaksRule p procedure MayPropagate = (r : ℕ) × AdjustsOrFinalizes p procedure r × ((e : Exception) × Does p (deed.Raises e) (callee.Procedure procedure))
BreaksRule p procedure FinalizeAllocates = (r : ℕ) × Overrides p procedure Finalize r × Does p deed.Allocates (callee.Procedure procedure)

-- The number of a rule, as it is printed.
abbrev pub rule_number : OperationRule → ℕ
rule_number FinalizeOrder = 8
rule_number MayPropagate = 9
rule_number FinalizeAllocates = 10

-- Whether one fault comes before another: by line, then by column, and at one spot by the rule's number.
abbrev pub is_before : Spot × OperationRule → Spot × OperationRule → Bool
is_before f g =
    nat_lt f.0.line g.0.line ||
    (f.0.line == g.0.line &&
    (nat_lt f.0.column g.0.column || (f.0.column == g.0.column && nat_lt (rule_number f.1) (rule_number g.1))))

-- A program has a fault: a body that begins at the spot breaks the rule.
abbrev pub HasFault : ProgramForm → Spot × OperationRule → Type 0
HasFault p f = (procedure : ProcedureNo) × (b : BodyForm) × (slice_get p.bodies procedure.0 ≡ Some b) × (b.start_spot ≡ f.0) × BreaksRule p procedure f.1

-- The first fault of a program, or that it has none.
abbrev pub IsFirstFault : ProgramForm → Option (Spot × OperationRule) → Type 0
IsFirstFault p None = (f : Spot × OperationRule) → ¬ (HasFault p f)
IsFirstFault p (Some f) = HasFault p f × ((g : Spot × OperationRule) → HasFault p g → is_before g f ≡ false)

-- No exception comes out where a record is adjusted or finalized (7.6.1): out of no operation of a part of it.
pub record PropagatesNothing (p : ProgramForm) : Type 0 where
  pub adjusts : (e : Exception) (t : TypeNo) → ¬ (Does p (deed.Raises e) (callee.Parts Adjust t))
  pub finalizes : (e : Exception) (t : TypeNo) → ¬ (Does p (deed.Raises e) (callee.Parts Finalize t))
