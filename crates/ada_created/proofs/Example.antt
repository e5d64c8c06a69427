-- A program that owns two collections, and a run of it in which an object of the newer one is finalized by a body that frees objects of the older one.

use Rattle.std.proofs.Common.{◌≡◌, ℕ, true, false, List, [], ◌∷◌, ◌++◌, refl, sym, subst, arith, inl, inr}
use Rattle.std.specs.Prelude.{None, Some}
use Rattle.ada_deeds.specs.Does.{Does, does}
use Rattle.ada_deeds.specs.declared.deed.Callee.{Callee}
use Rattle.ada_deeds.specs.declared.deed.Callee.TheVariants as callee
use Rattle.ada_deeds.specs.declared.deed.Deed.{Deed}
use Rattle.ada_deeds.specs.declared.deed.Deed.TheVariants as deed
use Rattle.ada_operations.specs.Example.{obeying}
use Rattle.ada_operations.specs.Operations.{itself, Uses, BreaksRule, IsFirstFault}
use Rattle.ada_operations.specs.declared.rule.OperationRule.{OperationRule}
use Rattle.ada_operations.specs.declared.rule.OperationRule.TheVariants.{FinalizeOrder, MayPropagate, FinalizeAllocates}
use Rattle.ada_operations.proofs.Shown.{none_broken}
use Rattle.ada_program.specs.declared.program.Declaration.TheVariants as declaration
use Rattle.ada_program.specs.declared.program.FormalMode.TheVariants.{InOut}
use Rattle.ada_program.specs.declared.program.Operations.{Operations}
use Rattle.ada_program.specs.declared.program.PartKind.TheVariants as part
use Rattle.ada_program.specs.declared.program.ProcedureNo.{ProcedureNo}
use Rattle.ada_program.specs.declared.program.Program.{Program}
use Rattle.ada_program.specs.declared.program.Right.TheVariants as right
use Rattle.ada_program.specs.declared.program.Stmt as stmt
use Rattle.ada_program.specs.declared.program.TypeDefinition.{TypeDefinition}
use Rattle.ada_program.specs.declared.program.TypeDefinition.TheVariants as definition
use Rattle.ada_program.specs.declared.program.Variable.{Variable}
use Rattle.ada_program.specs.declared.program.VariableKind.{VariableKind}
use Rattle.ada_program.specs.declared.program.VariableKind.TheVariants as variable
use Rattle.ada_program.specs.Form.{expression_form, stmt_form, skips, StmtsForm, no_stmts, a_stmt, stmt_forms, statement_rules}
use Rattle.ada_program.specs.ProgramForm.{BodyForm, ProgramForm, body_forms, program_form, nowhere}
use Rattle.ada_program.specs.WellFormed.{IsWellFormed}
use Rattle.ada_meaning.specs.Named.{next}
use Rattle.ada_meaning.specs.Run.{grants, takes}
use Rattle.ada_order.specs.Example.{InSomeRun}
use Rattle.ada_order.proofs.Choices.{run_by}
use Rattle.ada_scopes.proofs.Example.{steps, vec, no_name, access_to}
use Rattle.ada_created.specs.Example.{UsesOlder}

abbrev operations : Operations
operations = record { initialize = None; adjust = None; finalize = Some (record { 0 = 0 }) }

-- type R is new Ada.Finalization.Limited_Controlled with null record;
abbrev controlled : TypeDefinition
controlled =
    definition.Record no_name (vec (record { name = no_name; kind = part.Parent; first = record { 0 = 0 }; part = record { 0 = 0 } } ∷ []) (omega arith)) (vec [] (omega arith))
    (Some (record { number = record { 0 = 0 }; parts = 1; limited = true; operations = operations }))

-- A variable.
abbrev holding : VariableKind → Variable
holding kind = record { name = no_name; spot = nowhere; kind = kind; borrows = false }

-- type Plain is record null; end record; type List is access Plain; type R; type Owner is access R;
-- procedure Finalize (Object : in out R) is Y : List; begin Free (Y); end; X : Owner := new R; begin null; end;
abbrev pub program : Program
program = record {
  types = vec
      (definition.Record no_name (vec [] (omega arith)) (vec [] (omega arith)) None ∷ access_to 0 ∷ controlled ∷ access_to 2
      ∷ definition.Object (record { 0 = 2 }) ∷ []) (omega arith);
  pools = vec [] (omega arith);
  procedures = vec (record {
    formals = vec (InOut ∷ []) (omega arith);
    variables = vec (holding (variable.Record (record { 0 = 4 })) ∷ holding (variable.Access (record { 0 = 1 })) ∷ []) (omega arith);
    declarations = vec (declaration.Variable (record { 0 = 1 }) None ∷ []) (omega arith);
    statements = vec
        (stmt.Free (record { 0 = 1 }) (record { root = record { 0 = 1 }; of_record = false; selectors = vec [] (omega arith); spot = nowhere }) ∷ [])
        (omega arith);
    handlers = vec [] (omega arith);
    start = record { line = 5; column = 4 };
    end = nowhere;
  } ∷ []) (omega arith);
  variables = vec (holding (variable.Access (record { 0 = 3 })) ∷ []) (omega arith);
  texts = vec [] (omega arith);
  exceptions = vec [] (omega arith);
  declarations = vec
      (declaration.Collection (record { 0 = 1 }) ∷ declaration.Collection (record { 0 = 3 })
      ∷ declaration.Variable (record { 0 = 0 }) (Some (right.Default (record { 0 = 3 }))) ∷ []) (omega arith);
  statements = vec (stmt.Null ∷ []) (omega arith);
  handlers = vec [] (omega arith);
}

abbrev forms : StmtsForm
forms = a_stmt skips no_stmts

-- Its operations are those of a program that breaks no rule.
abbrev bodies : List BodyForm
bodies = obeying.bodies

forms_are : stmt_forms program ≡ forms
forms_are = simp statement_rules

bodies_are : body_forms program ≡ bodies
bodies_are = simp statement_rules

-- The same program with these.
abbrev form : ProgramForm
form = record (program_form program) { bodies = bodies; statements = forms }

form_is : program_form program ≡ form
form_is = rw (bodies_are, forms_are) refl

form_well_formed : IsWellFormed form
form_well_formed = record {
  types_fit = refl;
  components_lie = refl;
  operations_fit = refl;
  pools_fit = refl;
  variables_fit = refl;
  creates_in_order = refl;
  collections_first = refl;
  collections_fit = refl;
  has_one_each = refl;
  initials_fit = refl;
  statements_fit = refl;
  handlers_fit = refl;
  bodies_fit = refl;
}

-- They do the same in both.
does_there : (d : Deed) (c : Callee) → Does form d c → Does obeying d c
does_there d c (does of known each h) = does of known (λ other is. does_there d other (each other is)) h

uses_there : (q : ProcedureNo) (u : ℕ) → Uses form q u → Uses obeying q u
uses_there q u (inl freed) = inl (does_there (deed.Frees (record { 0 = u })) (callee.Procedure q) freed)
uses_there q u (inr followed) = inr (does_there (deed.Follows (record { 0 = u })) (callee.Procedure q) followed)

breaks_there : (q : ProcedureNo) (rule : OperationRule) → BreaksRule form q rule → BreaksRule obeying q rule
breaks_there q FinalizeOrder (r, is, (u, used, late)) = (r, is, (u, uses_there q u used, late))
breaks_there q MayPropagate (r, is, (e, done)) = (r, is, (e, does_there (deed.Raises e) (callee.Procedure q) done))
breaks_there q FinalizeAllocates (r, is, allocates) = (r, is, does_there deed.Allocates (callee.Procedure q) allocates)

form_obeys : IsFirstFault form None
form_obeys f (q, b, found, begins, breaks) = none_broken f (q, b, found, begins, breaks_there q f.1 breaks)

pub well_formed : IsWellFormed (program_form program)
well_formed = subst IsWellFormed (sym form_is) form_well_formed

pub obeys : IsFirstFault (program_form program) None
obeys = subst (λ (p : ProgramForm). IsFirstFault p None) (sym form_is) form_obeys

frees_older : Does form (deed.Frees (record { 0 = 1 })) (callee.Procedure (record { 0 = 0 }))
frees_older = does refl (λ c. false) (λ c is. absurd (cc is)) refl

-- The object has been taken, and its Finalize has begun.
pub uses_older : InSomeRun program (λ events last. UsesOlder (program_form program) last)
unfolding next expression_form stmt_form
uses_older =
    run_by program bodies forms bodies_are forms_are (steps 4 ++ grants true ∷ steps 8 ++ takes 0 ∷ steps 1)
    (λ events last. UsesOlder (program_form program) last) refl
    (record {
      called = _;
      main = _;
      newer = _;
      older = _;
      t = 3;
      u = 1;
      entered = refl;
      main_departs = refl;
      owns = refl;
      newer_is = refl;
      older_is = refl;
      uses = record {
        whole = 2;
        record_type = 2;
        procedure = record { 0 = 0 };
        designates = refl;
        has_part = itself;
        overrides = inr refl;
        uses = subst (λ (p : ProgramForm). Uses p (record { 0 = 0 }) 1) (sym form_is) (inl frees_older);
      };
    })
