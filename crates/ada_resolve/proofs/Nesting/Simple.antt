-- A statement with no others in it creates nothing, or is the call of a procedure that is visible.

use Rattle.std.proofs.Common.{◌≡◌, ℕ, Bool, true, false, cond, List, [], ◌∷◌, refl}
use Rattle.std.specs.Prelude.{Option, Some, None}
use Rattle.ada_tree.specs.Names.{PathTree}
use Rattle.ada_tree.specs.Expressions.{path_expression, ArgumentTree, expression_argument, text_argument, attribute_argument}
use Rattle.ada_tree.specs.Statements.{StatementTree, null_statement, assignment, call, exit_statement, return_statement, raise_statement}
use Rattle.ada_program.specs.declared.program.Exception.{Exception}
use Rattle.ada_program.specs.declared.program.TypeNo.{TypeNo}
use Rattle.ada_program.specs.Form.{StmtForm, reads}
use Rattle.ada_program.specs.Nested.{statement_nests, callees_from}
use Rattle.ada_program.specs.ProgramForm.{TypeForm, BodyForm}
use Rattle.ada_resolve.specs.declared.calls.Callee.{Callee}
use Rattle.ada_resolve.specs.declared.calls.Callee.TheVariants as callee
use Rattle.ada_resolve.specs.declared.library.LibraryName.{LibraryName}
use Rattle.ada_resolve.specs.declared.library.LibraryName.TheVariants.{PutLine, Get}
use Rattle.ada_resolve.specs.declared.scope.Entity.{Entity}
use Rattle.ada_resolve.specs.declared.scope.Entity.TheVariants as entity
use Rattle.ada_resolve.specs.Assignments.{Target, value_target, record_target, target_found, held_by_target, assignment_of, assignment_found}
use Rattle.ada_resolve.specs.Calls.{freeing, getting, taking, actual_found, taker_found, library_call_found, own_call_found}
use Rattle.ada_resolve.specs.Exceptions.{exception_found, raising}
use Rattle.ada_resolve.specs.Known.{Known, visible, library_path_found, is_empty, parts}
use Rattle.ada_resolve.specs.Library.{is_library_root}
use Rattle.ada_resolve.specs.Lines.{line_found, put_line_found}
use Rattle.ada_resolve.specs.Paths.{Meant, access_value, integer_value, path_meant}
use Rattle.ada_resolve.specs.Rights.{Assigned, a_value, a_whole, right_found}
use Rattle.ada_resolve.specs.Statements.{statement_found, form_or_null, statement_meant}
use Rattle.ada_resolve.proofs.Nesting.Callees.{callees_in, wider_same}
use Rattle.ada_resolve.proofs.Nesting.Calls.{EntityCalls, PartsCall, visible_calls}
use Rattle.ada_resolve.proofs.WellFormed.Growing.{AreIn}

module _ (types : List TypeForm) (around : List ℕ) (k : Known) (bodies : List BodyForm) (grows : AreIn k.bodies bodies) where
  -- what is done nests, where it is known
  abbrev FoundNests : Option StmtForm → Type 0
  FoundNests None = Unit {0}
  FoundNests (Some f) = statement_nests types (callees_from types [] bodies) around f ≡ true

  assigned_nests : (o : Option Target) (s : Option Assigned) → FoundNests (assignment_of o s)
  assigned_nests (Some (value_target path kind)) (Some (a_value value)) = refl
  assigned_nests (Some (value_target path kind)) (Some (a_whole items)) = tt
  assigned_nests (Some (value_target path kind)) None = tt
  assigned_nests (Some (record_target path)) (Some (a_whole items)) = refl
  assigned_nests (Some (record_target path)) (Some (a_value value)) = tt
  assigned_nests (Some (record_target path)) None = tt
  assigned_nests None s = tt

  freeing_nests : (access : TypeNo) (m : Meant) → FoundNests (freeing access m)
  freeing_nests access (access_value path t) = refl
  freeing_nests access m = tt

  getting_nests : (m : Meant) → FoundNests (getting m)
  getting_nests (integer_value (reads path)) = refl
  getting_nests m = tt

  taking_nests : (taker : Callee) (m : Meant) → FoundNests (taking taker m)
  taking_nests (callee.Free access) m = freeing_nests access m
  taking_nests callee.Get m = getting_nests m

  actual_nests : (taker : Callee) (argument : ArgumentTree) → FoundNests (actual_found k taker argument)
  actual_nests taker (expression_argument (path_expression path)) = taking_nests taker (path_meant k path)
  actual_nests taker argument = tt

  taker_nests : (taker : Callee) (arguments : List ArgumentTree) → FoundNests (taker_found k taker arguments)
  unfolding taker_found
  taker_nests taker [] = tt
  taker_nests taker (argument ∷ more) = actual_nests taker argument

  line_nests : (n : ℕ) (argument : ArgumentTree) → FoundNests (line_found k n argument)
  line_nests n (expression_argument e) = tt
  line_nests n (text_argument spot text) = refl
  line_nests n (attribute_argument prefix attribute value) = refl

  put_line_nests : (n : ℕ) (arguments : List ArgumentTree) → FoundNests (put_line_found k n arguments)
  unfolding put_line_found
  put_line_nests n [] = tt
  put_line_nests n (argument ∷ more) = line_nests n argument

  library_nests : (n : ℕ) (o : Option LibraryName) (arguments : List ArgumentTree) → FoundNests (library_call_found o k n arguments)
  library_nests n (Some PutLine) arguments = put_line_nests n arguments
  library_nests n (Some Get) arguments = taker_nests callee.Get arguments
  library_nests n o arguments = tt

  own_nests_one : (e : Entity) (alone : Bool) (arguments : List ArgumentTree) → EntityCalls types k.bodies around e → FoundNests (own_call_found (Some e) alone k arguments)
  own_nests_one (entity.Instance t) true arguments c = taker_nests (callee.Free t) arguments
  own_nests_one (entity.Instance t) false arguments c = tt
  own_nests_one (entity.Callable p) true arguments c = rw (callees_in types k.bodies bodies grows p.0 c.0 c.1) (c.2 around (wider_same k.bodies around))
  own_nests_one (entity.Callable p) false arguments c = tt
  own_nests_one e alone arguments c = tt

  own_call_nests : (o : Option Entity) (alone : Bool) (arguments : List ArgumentTree) → ((e : Entity) → o ≡ Some e → EntityCalls types k.bodies around e) → FoundNests (own_call_found o alone k arguments)
  own_call_nests None alone arguments c = tt
  own_call_nests (Some e) alone arguments c = own_nests_one e alone arguments (c e refl)

  call_nests_at : (n : ℕ) (procedure : PathTree) (arguments : List ArgumentTree) (b : Bool) → PartsCall types k.bodies around (parts k) → FoundNests (cond b (library_call_found (library_path_found k procedure) k n arguments) (own_call_found (visible k procedure.root.text) (is_empty procedure.selectors) k arguments))
  call_nests_at n procedure arguments true c = library_nests n (library_path_found k procedure) arguments
  call_nests_at n procedure arguments false c =
      own_call_nests (visible k procedure.root.text) (is_empty procedure.selectors) arguments (visible_calls types k around c procedure.root.text)

  assignment_nests : (target : PathTree) (value : _) → FoundNests (assignment_found k target value)
  unfolding assignment_found
  assignment_nests target value = assigned_nests (target_found k target) (right_found k (held_by_target (target_found k target)) value)

  raising_nests : (o : Option Exception) → FoundNests (raising o)
  raising_nests (Some e) = refl
  raising_nests None = tt

  found_nests : (s : StatementTree) → PartsCall types k.bodies around (parts k) → FoundNests (statement_found k s)
  found_nests (null_statement spot) c = refl
  found_nests (assignment target value) c = assignment_nests target value
  found_nests (call procedure arguments) c = call_nests_at _ procedure arguments (is_library_root procedure.root.text) c
  found_nests (exit_statement spot condition) c = refl
  found_nests (return_statement spot) c = refl
  found_nests (raise_statement spot name) c = raising_nests (exception_found k name)
  found_nests s c = tt

  form_nests : (o : Option StmtForm) → FoundNests o → statement_nests types (callees_from types [] bodies) around (form_or_null o) ≡ true
  form_nests None h = refl
  form_nests (Some f) h = h

  pub meant_nests : (s : StatementTree) → PartsCall types k.bodies around (parts k) → statement_nests types (callees_from types [] bodies) around (statement_meant k s) ≡ true
  meant_nests s c = form_nests (statement_found k s) (found_nests s c)
