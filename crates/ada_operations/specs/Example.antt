-- A Finalize that breaks each rule on operations, and one that breaks none; and operations of a part that lies within a part.

use Rattle.std.specs.Prelude.{◌≡◌, ◌↔◌, ℕ, ◌==◌, ◌||◌, List, [], ◌∷◌, Some, None, false, true}
use Rattle.std.specs.List.{Contains}
use Rattle.ada_deeds.specs.Implicit.{implicit_of}
use Rattle.ada_operations.specs.Operations.{HasFault, IsFirstFault}
use Rattle.ada_operations.specs.declared.rule.OperationRule.TheVariants.{FinalizeOrder, MayPropagate, FinalizeAllocates}
use Rattle.ada_program.specs.declared.program.Exception.{Exception}
use Rattle.ada_program.specs.declared.program.Exception.TheVariants.{ProgramError}
use Rattle.ada_program.specs.declared.program.FormalMode.TheVariants.{InOut}
use Rattle.ada_program.specs.declared.program.Operations.{Operations}
use Rattle.ada_program.specs.declared.program.PartKind.{PartKind}
use Rattle.ada_program.specs.declared.program.PartKind.TheVariants as part
use Rattle.ada_program.specs.declared.program.VariableKind.{VariableKind}
use Rattle.ada_program.specs.declared.program.VariableKind.TheVariants as variable
use Rattle.ada_program.specs.Form.{PathForm, nothing, allocates_default, DeclarationForm, collects, declares, assigns, frees, raises, StmtsForm, no_stmts, a_stmt, no_handlers}
use Rattle.ada_program.specs.ProgramForm.{TypeForm, record_of, access_to, object_of, VariableForm, BodyForm, ProgramForm, nowhere}

-- A variable.
abbrev pub holding : VariableKind → VariableForm
holding kind = record { name = []; spot = nowhere; kind = kind; borrows = false }

-- The path to the second variable of a body.
abbrev pub second : PathForm
second = record { root = 1; of_record = false; selectors = []; spot = nowhere }

-- `type Plain is record null; end record;` `type List is access Plain;` `type R is new Limited_Controlled with null record;` `type Owner is access R;`
-- and what the formal parameter of Finalize, an R, is known by.
abbrev pub types : List TypeForm
types =
    record_of [] [] [] None ∷ access_to [] 0 None
    ∷ record_of [] (record { name = []; kind = part.Parent; first = 0; part = 0 } ∷ []) []
    (Some (record {
      number = record { 0 = 0 };
      parts = 1;
      limited = true;
      operations = record { initialize = None; adjust = None; finalize = Some (record { 0 = 0 }) };
    }))
    ∷ access_to [] 2 None ∷ object_of 2 ∷ []

-- The body of an operation: its formal parameter is known by this type, it declares a variable of this kind, and it has these statements.
abbrev pub operating : (object : ℕ) → VariableKind → StmtsForm → BodyForm
operating object kind fs = record {
  formals = InOut ∷ [];
  variables = holding (variable.Record (record { 0 = object })) ∷ holding kind ∷ [];
  declarations = declares 1 nothing ∷ [];
  statements = fs;
  handlers = no_handlers;
  start_spot = record { line = 5; column = 4 };
  end_spot = nowhere;
}

-- Finalize of R with a variable of an access type, and these statements.
abbrev pub finalize : VariableKind → StmtsForm → BodyForm
finalize kind fs = operating 4 kind fs

-- A program with these types and bodies, which creates collections.
abbrev pub creating : List TypeForm → List BodyForm → List DeclarationForm → ProgramForm
creating all bodies declarations = record {
  types = all;
  pools = [];
  bodies = bodies;
  formals = [];
  variables = [];
  texts = [];
  exceptions = [];
  declarations = declarations;
  statements = no_stmts;
  handlers = no_handlers;
  start_spot = nowhere;
  end_spot = nowhere;
}

-- A program with the types above and this body.
abbrev pub program : BodyForm → ProgramForm
program b = creating types (b ∷ []) (collects 1 ∷ collects 3 ∷ [])

-- Finalize creates an object of the collection that is ended, frees it, and raises an exception.
abbrev pub breaking : ProgramForm
breaking = program (finalize (variable.Access (record { 0 = 3 }))
    (a_stmt (assigns second (allocates_default 3)) (a_stmt (frees 3 second) (a_stmt (raises ProgramError) no_stmts))))

-- It breaks all three rules at its first token, and S8 is told.
pub record AllAreBroken : Type 0 where
  pub order : HasFault breaking (record { line = 5; column = 4 }, FinalizeOrder)
  pub raises : HasFault breaking (record { line = 5; column = 4 }, MayPropagate)
  pub allocates : HasFault breaking (record { line = 5; column = 4 }, FinalizeAllocates)
  pub first : IsFirstFault breaking (Some (record { line = 5; column = 4 }, FinalizeOrder))

-- Finalize frees an object of a collection that is created before that of its own objects.
abbrev pub obeying : ProgramForm
obeying = program (finalize (variable.Access (record { 0 = 1 })) (a_stmt (frees 1 second) no_stmts))

-- It breaks none.
abbrev pub NoneIsBroken : Type 0
NoneIsBroken = IsFirstFault obeying None

-- A record type with one controlled part, which lies in its component.
abbrev pub enclosing : (number : ℕ) → PartKind → Operations → TypeForm
enclosing number kind operations =
    record_of [] (record { name = []; kind = kind; first = 0; part = 0 } ∷ []) []
    (Some (record { number = record { 0 = number }; parts = 1; limited = false; operations = operations }))

-- The first three procedures override Initialize, Adjust and Finalize.
abbrev pub all_three : Operations
all_three = record { initialize = Some (record { 0 = 0 }); adjust = Some (record { 0 = 1 }); finalize = Some (record { 0 = 2 }) }

-- None is overridden.
abbrev pub nothing_overridden : Operations
nothing_overridden = record { initialize = None; adjust = None; finalize = None }

-- `type Plain is record null; end record;` and three access types to it, `type Inner is new Controlled with null record;`
-- `type Middle is record Part : Inner; end record;` `type Outer is record Part : Middle; end record;` `type Link is access Outer;`
-- and what the formal parameters of the three operations are known by.
abbrev pub nested_types : List TypeForm
nested_types =
    record_of [] [] [] None ∷ access_to [] 0 None ∷ access_to [] 0 None ∷ access_to [] 0 None
    ∷ enclosing 0 part.Parent all_three ∷ enclosing 1 (part.Record (record { 0 = 4 })) nothing_overridden
    ∷ enclosing 2 (part.Record (record { 0 = 5 })) nothing_overridden ∷ access_to [] 6 None
    ∷ object_of 4 ∷ object_of 4 ∷ object_of 4 ∷ []

-- An operation of Inner that frees an object of an access type, before these statements.
abbrev pub freeing : (object access : ℕ) → StmtsForm → BodyForm
freeing object access fs = operating object (variable.Access (record { 0 = access })) (a_stmt (frees access second) fs)

-- Each operation frees objects of an access type of its own, and then Initialize raises an exception.
abbrev pub nested : ProgramForm
nested =
    creating nested_types (freeing 8 1 (a_stmt (raises ProgramError) no_stmts) ∷ freeing 9 2 no_stmts ∷ freeing 10 3 no_stmts ∷ [])
    (collects 1 ∷ collects 2 ∷ collects 3 ∷ collects 7 ∷ [])

-- What is known of implicit calls for objects of Link, in whose part Inner lies, and for those of Plain, which have no controlled parts.
pub record PartsOfPartsCount : Type 0 where
  pub raised : (e : Exception) → Contains ((implicit_of nested).start_raises 7) e ↔ (e ≡ ProgramError)
  pub started : (t : ℕ) → (implicit_of nested).start_frees 7 t ≡ ((t == 1) || (t == 3))
  pub adjusted : (t : ℕ) → (implicit_of nested).adjust_frees 7 t ≡ (t == 2)
  pub ended : (t : ℕ) → (implicit_of nested).end_frees 7 t ≡ (t == 3)
  pub reached : (t : ℕ) → (implicit_of nested).end_reaches 7 t ≡ (t == 3)
  pub plain : (t : ℕ) → (implicit_of nested).end_frees 1 t ≡ false
