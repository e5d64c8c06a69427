-- Examples of what procedures do and effects know: a program of which the laws speak, and one that shows why they ask what they ask.

use Rattle.std.specs.Prelude.{◌≡◌, ℕ, true, false, [], ◌∷◌, Some, None}
use Rattle.ada_deeds.specs.Aggregates.{aggregates_suit}
use Rattle.ada_deeds.specs.Laws.{DoesRaise, DoesFree, known_to_raise, known_to_free, KeepsIn}
use Rattle.ada_program.specs.declared.program.Exception.{Exception}
use Rattle.ada_program.specs.declared.program.Exception.TheVariants.{ConstraintError, ProgramError}
use Rattle.ada_program.specs.declared.program.FormalMode.TheVariants.{InOut}
use Rattle.ada_program.specs.declared.program.PartKind.TheVariants as part
use Rattle.ada_program.specs.declared.program.VariableKind.{VariableKind}
use Rattle.ada_program.specs.declared.program.VariableKind.TheVariants as variable
use Rattle.ada_program.specs.Form.{PathForm, in_out_access, ItemForm, item_of_record, nothing, collects, declares, declares_record, skips, frees, calls, raises, no_stmts, a_stmt, no_handlers}
use Rattle.ada_program.specs.ProgramForm.{record_of, access_to, object_of, VariableForm, BodyForm, ProgramForm, nowhere}
use Rattle.ada_program.specs.WellFormed.{IsWellFormed}

-- An exception comes out of a procedure, and this is known of its calls.
abbrev pub RaisesAndIsKnown : ProgramForm → (procedure : ℕ) → Exception → Type 0
RaisesAndIsKnown p procedure e = DoesRaise p procedure e × (known_to_raise p procedure e ≡ true)

-- It comes out, and is not known.
abbrev pub RaisesUnknown : ProgramForm → (procedure : ℕ) → Exception → Type 0
RaisesUnknown p procedure e = DoesRaise p procedure e × (known_to_raise p procedure e ≡ false)

-- It does not come out, and is not known.
abbrev pub RaisesNot : ProgramForm → (procedure : ℕ) → Exception → Type 0
RaisesNot p procedure e = (¬ DoesRaise p procedure e) × (known_to_raise p procedure e ≡ false)

-- A procedure frees objects of an access type, and this is known of its calls.
abbrev pub FreesAndIsKnown : ProgramForm → (procedure access : ℕ) → Type 0
FreesAndIsKnown p procedure t = DoesFree p procedure t × (known_to_free p procedure t ≡ true)

-- It frees them, and this is not known.
abbrev pub FreesUnknown : ProgramForm → (procedure access : ℕ) → Type 0
FreesUnknown p procedure t = DoesFree p procedure t × (known_to_free p procedure t ≡ false)

-- A variable.
abbrev pub holding : VariableKind → VariableForm
holding kind = record { name = []; spot = nowhere; kind = kind; borrows = false }

-- The path to a variable.
abbrev pub variable_path : ℕ → PathForm
variable_path x = record { root = x; of_record = false; selectors = []; spot = nowhere }

-- type Node is record null; end record; type Link is access Node; which have numbers 0 and 1.

-- procedure Drop (P : in out Link) is begin Free (P); raise Program_Error; end Drop;
abbrev pub drop_body : BodyForm
drop_body = record {
  formals = InOut ∷ [];
  variables = holding (variable.Access (record { 0 = 1 })) ∷ [];
  declarations = [];
  statements = a_stmt (frees 1 (variable_path 0)) (a_stmt (raises ProgramError) no_stmts);
  handlers = no_handlers;
  start_spot = nowhere;
  end_spot = nowhere;
}

-- procedure Pass (P : in out Link) is begin Drop (P); end Pass;
abbrev pub pass_body : BodyForm
pass_body = record drop_body { statements = a_stmt (calls 0 (in_out_access (variable_path 0) ∷ [])) no_stmts }

-- The program with both.
abbrev pub passing : ProgramForm
passing = record {
  types = record_of [] [] [] None ∷ access_to [] 0 None ∷ [];
  pools = [];
  bodies = drop_body ∷ pass_body ∷ [];
  formals = [];
  variables = [];
  texts = [];
  exceptions = [];
  declarations = collects 1 ∷ [];
  statements = no_stmts;
  handlers = no_handlers;
  start_spot = nowhere;
  end_spot = nowhere;
}

-- The laws speak of it.
abbrev pub PassingFits : Type 0
PassingFits = IsWellFormed passing × (aggregates_suit passing ≡ true) × ((e : Exception) → KeepsIn passing e)

-- Pass raises and frees what Drop does, and nothing else is known of it.
abbrev pub PassesAll : Type 0
PassesAll = RaisesAndIsKnown passing 1 ProgramError × FreesAndIsKnown passing 1 1 × RaisesNot passing 1 ConstraintError

-- type Count is new Controlled with null record; type Plain is record null; end record; type Link is access Plain; which have numbers 0 to 2. Objects of Count
-- are known by a type of number 3, those of Plain by one of number 4.

-- procedure Adjust (C : in out Count) is P : Link; begin Free (P); end Adjust;
abbrev pub adjust_body : BodyForm
adjust_body = record {
  formals = InOut ∷ [];
  variables = holding (variable.Record (record { 0 = 3 })) ∷ holding (variable.Access (record { 0 = 2 })) ∷ [];
  declarations = declares 1 nothing ∷ [];
  statements = a_stmt (frees 2 (variable_path 1)) no_stmts;
  handlers = no_handlers;
  start_spot = nowhere;
  end_spot = nowhere;
}

-- procedure Finalize (C : in out Count) is begin raise Program_Error; end Finalize;
abbrev pub finalize_body : BodyForm
finalize_body = record {
  formals = InOut ∷ [];
  variables = holding (variable.Record (record { 0 = 3 })) ∷ [];
  declarations = [];
  statements = a_stmt (raises ProgramError) no_stmts;
  handlers = no_handlers;
  start_spot = nowhere;
  end_spot = nowhere;
}

-- The formal parameter C of the procedures below, a Count.
abbrev pub the_count : ItemForm
the_count = item_of_record (record { object = record (variable_path 0) { of_record = true }; first = 0; part = 0; record_type = 0 })

-- procedure P (C : in out Count) is X : T := C; begin null; end P; where T is the type of the record by which X is known.
abbrev pub copying_body : (object : ℕ) → BodyForm
copying_body object = record {
  formals = InOut ∷ [];
  variables = holding (variable.Record (record { 0 = 3 })) ∷ holding (variable.Record (record { 0 = object })) ∷ [];
  declarations = declares_record 1 object (Some (the_count ∷ [])) ∷ [];
  statements = a_stmt skips no_stmts;
  handlers = no_handlers;
  start_spot = nowhere;
  end_spot = nowhere;
}

-- The program with these: X is a Count in procedure 2, and in procedure 3 a Plain, which no source gives a Count.
abbrev pub copying : ProgramForm
copying = record {
  types =
      record_of [] (record { name = []; kind = part.Parent; first = 0; part = 0 } ∷ []) []
      (Some (record {
        number = record { 0 = 0 };
        parts = 1;
        limited = false;
        operations = record { initialize = None; adjust = Some (record { 0 = 0 }); finalize = Some (record { 0 = 1 }) };
      }))
      ∷ record_of [] [] [] None ∷ access_to [] 1 None ∷ object_of 0 ∷ object_of 1 ∷ [];
  pools = [];
  bodies = adjust_body ∷ finalize_body ∷ copying_body 3 ∷ copying_body 4 ∷ [];
  formals = [];
  variables = [];
  texts = [];
  exceptions = [];
  declarations = collects 2 ∷ [];
  statements = no_stmts;
  handlers = no_handlers;
  start_spot = nowhere;
  end_spot = nowhere;
}

-- It is well-formed.
abbrev pub CopyingFits : Type 0
CopyingFits = IsWellFormed copying

-- What Adjust frees is known where a Count is copied to a Count; what Finalize raises is not.
abbrev pub FinalizeIsUnknown : Type 0
FinalizeIsUnknown = FreesAndIsKnown copying 2 2 × RaisesUnknown copying 2 ProgramError

-- Where it is copied to a Plain, what Adjust frees is not known.
abbrev pub AdjustIsUnknown : Type 0
AdjustIsUnknown = FreesUnknown copying 3 2
