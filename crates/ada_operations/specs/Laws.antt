-- Laws of the rules on operations, and of what implicit calls may do.

use Rattle.std.specs.Prelude.{◌≡◌, ◌↔◌, ◌⊎◌, ℕ, true, false, List, Option, Some, None}
use Rattle.std.specs.List.{Contains, slice_get}
use Rattle.ada_deeds.specs.Does.{Does}
use Rattle.ada_deeds.specs.Implicit.{implicit_of}
use Rattle.ada_deeds.specs.declared.deed.Callee.TheVariants as callee
use Rattle.ada_deeds.specs.declared.deed.Deed.{Deed}
use Rattle.ada_deeds.specs.declared.deed.Deed.TheVariants.{Raises, Frees, Follows}
use Rattle.ada_deeds.specs.declared.deed.Operation.{Operation}
use Rattle.ada_deeds.specs.declared.deed.Operation.TheVariants.{Initialize, Adjust, Finalize}
use Rattle.ada_effects.specs.Effects.{no_implicit}
use Rattle.ada_operations.specs.Created.{collections_of, is_created_before}
use Rattle.ada_operations.specs.Operations.{Overrides, HasPart, IsFirstFault, PropagatesNothing}
use Rattle.ada_operations.specs.declared.rule.OperationRule.{OperationRule}
use Rattle.ada_program.specs.declared.program.Exception.{Exception}
use Rattle.ada_program.specs.declared.program.ProcedureNo.{ProcedureNo}
use Rattle.ada_program.specs.declared.program.TypeNo.{TypeNo}
use Rattle.ada_program.specs.ProgramForm.{TypeForm, ProgramForm}
use Rattle.ada_program.specs.WellFormed.{IsWellFormed, designated_type, is_access, is_record, object_in}
use Rattle.ada_quiet.specs.Quiet.{operations_are_quiet}
use Rattle.ada_text.specs.declared.spot.Spot.{Spot}

-- A program has its first fault, or none: not two of these.
abbrev pub OneIsFirst : Type 0
OneIsFirst = (p : ProgramForm) (a b : Option (Spot × OperationRule)) → IsFirstFault p a → IsFirstFault p b → a ≡ b

-- Where all operations are quiet, a well-formed program has no fault.
abbrev pub QuietOperationsObey : Type 0
QuietOperationsObey = (p : ProgramForm) → IsWellFormed p → operations_are_quiet p ≡ true → IsFirstFault p None

-- And implicit calls raise, free and follow nothing.
abbrev pub QuietOperationsDoNothing : Type 0
QuietOperationsDoNothing = (p : ProgramForm) → IsWellFormed p → operations_are_quiet p ≡ true → implicit_of p ≡ no_implicit

-- What implicit calls may do.

-- The record type of the objects of a type: the type itself (3.8), the one that an access type designates (3.10), or that of the one record object that is
-- known by the type (3.3.1).
abbrev pub HasObjectsOf : List TypeForm → (type_number whole : ℕ) → Type 0
HasObjectsOf types u whole =
    ((u ≡ whole) × (is_record types u ≡ true)) ⊎ (designated_type types u ≡ Some whole) ⊎ (object_in (slice_get types u) ≡ Some whole)

-- An operation does a deed for some part of the objects of a record type, at any depth: the procedure does that overrides it for the type of the part (7.6).
abbrev pub SomePartDoes : ProgramForm → Operation → Deed → (whole : ℕ) → Type 0
SomePartDoes p operation d whole =
    (r : ℕ) × (procedure : ProcedureNo) × HasPart p.types r whole × Overrides p procedure operation r × Does p d (callee.Procedure procedure)

-- It does for some part of the objects of the type of a number.
abbrev pub OperationDoes : ProgramForm → Operation → Deed → (type_number : ℕ) → Type 0
OperationDoes p operation d u = (whole : ℕ) × HasObjectsOf p.types u whole × SomePartDoes p operation d whole

-- Where an object is created without an initial value, Initialize does, or Finalize, which is called where an Initialize raises an exception (7.6).
abbrev pub CreationDoes : ProgramForm → Deed → (type_number : ℕ) → Type 0
CreationDoes p d u = OperationDoes p Initialize d u ⊎ OperationDoes p Finalize d u

-- What is known to come out where an object is created without an initial value is what the operations raise that are called there.
abbrev pub StartsRaiseWhatPartsRaise : Type 0
StartsRaiseWhatPartsRaise = (p : ProgramForm) (u : ℕ) (e : Exception) → Contains ((implicit_of p).start_raises u) e ↔ CreationDoes p (Raises e) u

-- What is known to be freed there is what they free.
abbrev pub StartsFreeWhatPartsFree : Type 0
StartsFreeWhatPartsFree = (p : ProgramForm) (u t : ℕ) → ((implicit_of p).start_frees u t ≡ true) ↔ CreationDoes p (Frees (record { 0 = t })) u

-- What is known to be freed where an object is copied is what Adjust frees.
abbrev pub AdjustsFreeWhatPartsFree : Type 0
AdjustsFreeWhatPartsFree = (p : ProgramForm) (u t : ℕ) → ((implicit_of p).adjust_frees u t ≡ true) ↔ OperationDoes p Adjust (Frees (record { 0 = t })) u

-- What is known to be freed where an object ends is what Finalize frees.
abbrev pub EndsFreeWhatPartsFree : Type 0
EndsFreeWhatPartsFree = (p : ProgramForm) (u t : ℕ) → ((implicit_of p).end_frees u t ≡ true) ↔ OperationDoes p Finalize (Frees (record { 0 = t })) u

-- What is known to be reached there is what Finalize frees or follows.
abbrev pub EndsReachWhatPartsUse : Type 0
EndsReachWhatPartsUse = (p : ProgramForm) (u t : ℕ) →
    ((implicit_of p).end_reaches u t ≡ true) ↔ (OperationDoes p Finalize (Frees (record { 0 = t })) u ⊎ OperationDoes p Finalize (Follows (record { 0 = t })) u)

-- Where no body breaks a rule, what is known to be reached where an object of an access type ends is none of that type, and neither is what is known to be freed
-- where one is adjusted (7.6.1).
abbrev pub EndsSpareTheirOwn : Type 0
EndsSpareTheirOwn = (p : ProgramForm) → IsFirstFault p None → (t : ℕ) → is_access p.types t ≡ true →
    ((implicit_of p).end_reaches t t ≡ false) × ((implicit_of p).adjust_frees t t ≡ false)

-- Nor is a value of an access type followed where an object is adjusted that is of that type (7.6).
abbrev pub AdjustsSpareTheirOwn : Type 0
AdjustsSpareTheirOwn = (p : ProgramForm) → IsFirstFault p None → (access : ℕ) (whole : TypeNo) → designated_type p.types access ≡ Some whole.0
    → ¬ (Does p (Follows (record { 0 = access })) (callee.Parts Adjust whole))

-- And it is of types whose collections are created before that of its own: none that is created later, of which the objects may be gone by then (7.6.1).
abbrev pub EndsSpareNewer : Type 0
EndsSpareNewer = (p : ProgramForm) → IsFirstFault p None → (t u : ℕ) → is_access p.types t ≡ true → (implicit_of p).end_reaches t u ≡ true →
    is_created_before (collections_of p) u t ≡ true

-- Where no body breaks a rule, no exception comes out where a record is adjusted or finalized (7.6.1).
abbrev pub ObeyingPropagatesNothing : Type 0
ObeyingPropagatesNothing = (p : ProgramForm) → IsFirstFault p None → PropagatesNothing p
