-- A statement with which nothing is wrong has the types that it wants.

use Rattle.std.proofs.Common.{◌≡◌, ℕ, ◌+◌, ◌≤◌, Bool, true, false, List, [], ◌∷◌, ◌++◌, length, length-append, refl, ap, arith, cond, eqb, eq-eqb, eqb-true}
use Rattle.std.specs.Prelude.{not, Option, Some, None, is_some}
use Rattle.std.proofs.lemmas.Bool.{lt-ltb}
use Rattle.ada_text.specs.declared.spot.Spot.{Spot}
use Rattle.ada_program.specs.declared.program.ScalarType.TheVariants.{Integer, Boolean}
use Rattle.ada_program.specs.declared.program.TypeNo.{TypeNo}
use Rattle.ada_program.specs.Form.{PathForm, RecordPathForm, StmtForm, reads}
use Rattle.ada_program.specs.declared.program.Exception.{Exception}
use Rattle.ada_tree.specs.Names.{Ident, PathTree}
use Rattle.ada_tree.specs.Expressions.{ExpressionTree, path_expression, RightTree, ArgumentTree, expression_argument, text_argument, attribute_argument}
use Rattle.ada_tree.specs.Statements.{StatementTree, null_statement, assignment, call, exit_statement, return_statement, raise_statement}
use Rattle.ada_program.specs.Freed.{statement_frees_own}
use Rattle.ada_program.specs.WellFormed as fits
use Rattle.ada_program.specs.WellFormed.{names_borrower}
use Rattle.ada_resolve.specs.declared.fault.NameRule.TheVariants.{WrongType, NotInProfile}
use Rattle.ada_resolve.specs.declared.library.LibraryName.{LibraryName}
use Rattle.ada_resolve.specs.declared.library.LibraryName.TheVariants.{PutLine, Get}
use Rattle.ada_resolve.specs.declared.scope.Entity.{Entity}
use Rattle.ada_resolve.specs.declared.scope.Entity.TheVariants as entity
use Rattle.ada_resolve.specs.Arguments.{image_value_remark}
use Rattle.ada_resolve.specs.Assignments.{Target, value_target, record_target, target_found, held_by_target, target_borrows, assignment_remark, assignment_of, assignment_found}
use Rattle.ada_resolve.specs.Lines.{line_remark, line_found, put_line_remark, put_line_found}
use Rattle.ada_resolve.specs.Calls.{freed_wanted, actual_wanted, actual_remark, freeing, getting, taking, actual_found, taker_remark, taker_found, library_call_remark, library_call_found, own_call_remark, own_call_found}
use Rattle.ada_resolve.specs.declared.calls.Callee.{Callee}
use Rattle.ada_resolve.specs.declared.calls.Callee.TheVariants as callee
use Rattle.ada_resolve.specs.Exceptions.{exception_found, raising}
use Rattle.ada_resolve.specs.Expressions.{expression_meant, expression_remark}
use Rattle.ada_resolve.specs.declared.rights.Held.{Held}
use Rattle.ada_resolve.specs.declared.rights.Held.TheVariants as held
use Rattle.ada_resolve.specs.Known.{Known, visible, library_path_found, is_empty, parts}
use Rattle.ada_resolve.specs.Library.{is_library_root}
use Rattle.ada_resolve.specs.Operators.{integer_in}
use Rattle.ada_resolve.specs.Paths.{Meant, access_value, integer_value, path_meant}
use Rattle.ada_resolve.specs.Rights.{Assigned, a_value, a_whole, right_found, right_remark}
use Rattle.ada_resolve.specs.Remark.{Remark, ◌also◌}
use Rattle.ada_resolve.specs.Spots.{expression_spot}
use Rattle.ada_resolve.specs.Statements.{bound_remark, bound_meant, condition_remark, condition_meant, optional_condition_remark, optional_condition_meant, exit_remark, exit_found, statement_remark, statement_found, text_in, simple_texts, form_or_null, statement_meant}
use Rattle.ada_resolve.proofs.Standing.Order.{IsCalled, PartsCalled, AllSized}
use Rattle.ada_resolve.proofs.WellFormed.Called.{callables, call_suits, visible_called}
use Rattle.ada_resolve.proofs.WellFormed.Remarks.{Quiet, quiet_if, quiet_unless}
use Rattle.ada_resolve.proofs.WellFormed.Names.{EntityFits, PartsFit, visible_fits}
use Rattle.ada_resolve.proofs.WellFormed.Exceptions.{PartsRaised, FoundIs, found_is}
use Rattle.ada_resolve.proofs.WellFormed.Tables.{both_parts}
use Rattle.ada_resolve.proofs.WellFormed.Typing.{is_of_type}
use Rattle.ada_resolve.proofs.WellFormed.Meanings.{MeantFits, path_fits, integer_is, boolean_is}
use Rattle.ada_resolve.proofs.WellFormed.Items.{expression_fits}
use Rattle.ada_resolve.proofs.WellFormed.Values.{IsTargetIn, found_target, IsSourceFor, right_fits}

-- what a statement does, where that is known, has the types that it wants, creates nothing, and frees by the instance for the very type
abbrev pub FormFits : Known → List (List ℕ) → (inside : Bool) → Option StmtForm → Type 0
FormFits k texts inside None = Unit {0}
FormFits k texts inside (Some f) = (fits.statement_fits k.types k.variables texts k.exceptions (callables k.bodies) inside f ≡ true) × (fits.created_by f ≡ []) × (statement_frees_own k.types k.variables f ≡ true)

-- `X := ..;`
value_fits : (k : Known) (texts : List (List ℕ)) (inside : Bool) (path : PathForm) (kind : Held) (s : Option Assigned) → IsTargetIn k.types k.variables (Some (value_target path kind)) → IsSourceFor k.types k.variables kind (names_borrower k.variables path) s → FormFits k texts inside (assignment_of (Some (value_target path kind)) s)
value_fits k texts inside path held.Integer (Some (a_value s)) h f =
    (both_parts (fits.right_fits k.types k.variables (fits.path_kind k.types k.variables path) s) (fits.lends_to k.variables (names_borrower k.variables path) s) (rw h f.0) f.1, refl, refl)
value_fits k texts inside path held.Boolean (Some (a_value s)) h f =
    (both_parts (fits.right_fits k.types k.variables (fits.path_kind k.types k.variables path) s) (fits.lends_to k.variables (names_borrower k.variables path) s) (rw h f.0) f.1, refl, refl)
value_fits k texts inside path (held.Access t) (Some (a_value s)) h f =
    (both_parts (fits.right_fits k.types k.variables (fits.path_kind k.types k.variables path) s) (fits.lends_to k.variables (names_borrower k.variables path) s) (rw h f.0) f.1, refl, refl)
value_fits k texts inside path (held.Record t) s h f = absurd h
value_fits k texts inside path kind (Some (a_whole items)) h f = tt
value_fits k texts inside path kind None h f = tt

-- `R := ..;`
record_fits : (k : Known) (texts : List (List ℕ)) (inside : Bool) (path : RecordPathForm) (s : Option Assigned) → fits.is_record_path k.types k.variables path ≡ true → IsSourceFor k.types k.variables (held.Record (record { 0 = path.record_type })) false s → FormFits k texts inside (assignment_of (Some (record_target path)) s)
record_fits k texts inside path (Some (a_whole items)) h f =
    (both_parts (fits.is_record_path k.types k.variables path) (fits.record_fits k.types k.variables path.record_type items) h f, refl, refl)
record_fits k texts inside path (Some (a_value s)) h f = tt
record_fits k texts inside path None h f = tt

assigned_fits : (k : Known) (texts : List (List ℕ)) (inside : Bool) (o : Option Target) (value : RightTree) → PartsFit k.types k.variables (parts k) → IsTargetIn k.types k.variables o → Quiet (right_remark k (held_by_target o) (target_borrows k.variables o) value) → FormFits k texts inside (assignment_of o (right_found k (held_by_target o) value))
assigned_fits k texts inside None value w h q = tt
assigned_fits k texts inside (Some (value_target path kind)) value w h q =
    value_fits k texts inside path kind (right_found k (Some kind) value) h (right_fits k kind (names_borrower k.variables path) value w q)
assigned_fits k texts inside (Some (record_target path)) value w h q =
    let kind = held.Record (record { 0 = path.record_type }) in
    record_fits k texts inside path (right_found k (Some kind) value) h (right_fits k kind false value w q)

assignment_fits : (k : Known) (texts : List (List ℕ)) (inside : Bool) (target : PathTree) (value : RightTree) → PartsFit k.types k.variables (parts k) → Quiet (assignment_remark k target value) → FormFits k texts inside (assignment_found k target value)
unfolding assignment_remark assignment_found
assignment_fits k texts inside target value w q = assigned_fits k texts inside (target_found k target) value w (found_target k target w q.1.0) q.1.1

-- `Free (X);`
freed_of : (d : Option ℕ) → is_some d ≡ true → fits.same_record d d ≡ true
freed_of None e = absurd (cc e)
freed_of (Some t) e = eq-eqb t t refl

freeing_fits : (k : Known) (texts : List (List ℕ)) (inside : Bool) (access : TypeNo) (m : Meant) (spot : Spot) → fits.is_access k.types access.0 ≡ true → MeantFits k.types k.variables m → Quiet (freed_wanted k.variables access m spot) → FormFits k texts inside (freeing access m)
freeing_fits k texts inside access (access_value path t) spot a h q =
    let same : t.0 ≡ access.0 = eqb-true t.0 access.0 (quiet_unless (eqb t.0 access.0) spot WrongType q.0) in (
      both_parts (fits.is_freed_by k.types access.0 (fits.path_access k.types k.variables path)) (not (names_borrower k.variables path))
          (rw (h, same) (freed_of (fits.designated_type k.types access.0) a))
          (ap (λ (b : Bool). not b) (quiet_if (names_borrower k.variables path) spot WrongType q.1)),
      refl,
      rw (h, same) (eq-eqb access.0 access.0 refl),
    )
freeing_fits k texts inside access m spot a h q = tt

-- `Run_Input.Get (X);`
getting_fits : (k : Known) (texts : List (List ℕ)) (inside : Bool) (m : Meant) → MeantFits k.types k.variables m → FormFits k texts inside (getting m)
getting_fits k texts inside (integer_value (reads path)) h = (is_of_type Integer (fits.scalar_of (fits.path_kind k.types k.variables path)) h, refl, refl)
getting_fits k texts inside m h = tt

-- what is taken is a variable
abbrev Takes : Known → Callee → Type 0
Takes k (callee.Free access) = fits.is_access k.types access.0 ≡ true
Takes k callee.Get = Unit {0}

taking_fits : (k : Known) (texts : List (List ℕ)) (inside : Bool) (taker : Callee) (m : Meant) (spot : Spot) → Takes k taker → MeantFits k.types k.variables m → Quiet (actual_wanted k.variables taker m spot) → FormFits k texts inside (taking taker m)
taking_fits k texts inside (callee.Free access) m spot a h q = freeing_fits k texts inside access m spot a h q
taking_fits k texts inside callee.Get m spot a h q = getting_fits k texts inside m h

actual_fits : (k : Known) (texts : List (List ℕ)) (inside : Bool) (taker : Callee) (argument : ArgumentTree) → PartsFit k.types k.variables (parts k) → Takes k taker → Quiet (actual_remark k taker argument) → FormFits k texts inside (actual_found k taker argument)
unfolding expression_remark
actual_fits k texts inside taker (expression_argument (path_expression path)) w a q = taking_fits k texts inside taker (path_meant k path) path.root.spot a (path_fits k path w q.0.1) q.1.1
actual_fits k texts inside taker argument w a q = tt

taker_fits : (k : Known) (texts : List (List ℕ)) (inside : Bool) (taker : Callee) (called : Spot) (arguments : List ArgumentTree) → PartsFit k.types k.variables (parts k) → Takes k taker → Quiet (taker_remark k taker called arguments) → FormFits k texts inside (taker_found k taker arguments)
unfolding taker_remark taker_found
taker_fits k texts inside taker called [] w a q = tt
taker_fits k texts inside taker called (argument ∷ more) w a q = actual_fits k texts inside taker argument w a q.0

-- `Ada.Text_IO.Put_Line (..);`
line_fits : (k : Known) (texts : List (List ℕ)) (inside : Bool) (n : ℕ) (argument : ArgumentTree) (more : List ArgumentTree) → PartsFit k.types k.variables (parts k) → n + length (text_in (argument ∷ more)) ≤ length texts → Quiet (line_remark k argument) → FormFits k texts inside (line_found k n argument)
unfolding image_value_remark
line_fits k texts inside n (expression_argument e) more w room q = tt
line_fits k texts inside n (text_argument spot text) more w room q = (lt-ltb n (length texts) (omega (arith, room)), refl, refl)
line_fits k texts inside n (attribute_argument prefix attribute value) more w room q = (
  is_of_type Integer (fits.type_of k.types k.variables (integer_in (expression_meant k value)))
      (integer_is k.types k.variables (expression_meant k value) (expression_spot value) (expression_fits k value w q.1.0) q.1.1),
  refl,
  refl,
)

put_line_fits : (k : Known) (texts : List (List ℕ)) (inside : Bool) (n : ℕ) (called : Spot) (arguments : List ArgumentTree) → PartsFit k.types k.variables (parts k) → n + length (text_in arguments) ≤ length texts → Quiet (put_line_remark k called arguments) → FormFits k texts inside (put_line_found k n arguments)
unfolding put_line_remark put_line_found
put_line_fits k texts inside n called [] w room q = tt
put_line_fits k texts inside n called (argument ∷ more) w room q = line_fits k texts inside n argument more w room q.0

-- `P (..);`
library_call_fits : (k : Known) (texts : List (List ℕ)) (inside : Bool) (n : ℕ) (o : Option LibraryName) (called : Spot) (arguments : List ArgumentTree) → PartsFit k.types k.variables (parts k) → n + length (text_in arguments) ≤ length texts → Quiet (library_call_remark o k called arguments) → FormFits k texts inside (library_call_found o k n arguments)
library_call_fits k texts inside n (Some PutLine) called arguments w room q = put_line_fits k texts inside n called arguments w room q
library_call_fits k texts inside n (Some Get) called arguments w room q = taker_fits k texts inside callee.Get called arguments w tt q
library_call_fits k texts inside n o called arguments w room q = tt

own_call_one : (k : Known) (texts : List (List ℕ)) (inside : Bool) (text : List ℕ) (e : Entity) (alone : Bool) (name : Ident) (arguments : List ArgumentTree) → PartsFit k.types k.variables (parts k) → EntityFits k.types k.variables text e → AllSized k.bodies → IsCalled (length k.bodies) (length k.pools) e → Quiet (own_call_remark (Some e) alone k name arguments) → FormFits k texts inside (own_call_found (Some e) alone k arguments)
own_call_one k texts inside text (entity.Instance t) true name arguments w f z c q = taker_fits k texts inside (callee.Free t) name.spot arguments w f q
own_call_one k texts inside text (entity.Instance t) false name arguments w f z c q = tt
own_call_one k texts inside text (entity.Callable p) true name arguments w f z c q = (call_suits k p name.spot arguments w z c q, refl, refl)
own_call_one k texts inside text (entity.Callable p) false name arguments w f z c q = tt
own_call_one k texts inside text e alone name arguments w f z c q = tt

own_call_fits : (k : Known) (texts : List (List ℕ)) (inside : Bool) (text : List ℕ) (o : Option Entity) (alone : Bool) (name : Ident) (arguments : List ArgumentTree) → PartsFit k.types k.variables (parts k) → ((e : Entity) → o ≡ Some e → EntityFits k.types k.variables text e) → AllSized k.bodies → ((e : Entity) → o ≡ Some e → IsCalled (length k.bodies) (length k.pools) e) → Quiet (own_call_remark o alone k name arguments) → FormFits k texts inside (own_call_found o alone k arguments)
own_call_fits k texts inside text None alone name arguments w v z c q = tt
own_call_fits k texts inside text (Some e) alone name arguments w v z c q = own_call_one k texts inside text e alone name arguments w (v e refl) z (c e refl) q

call_fits_at : (k : Known) (texts : List (List ℕ)) (inside : Bool) (n : ℕ) (procedure : PathTree) (arguments : List ArgumentTree) (b : Bool) (first : Remark) → PartsFit k.types k.variables (parts k) → AllSized k.bodies → PartsCalled (length k.bodies) (length k.pools) (parts k) → n + length (text_in arguments) ≤ length texts → Quiet (cond b (first also library_call_remark (library_path_found k procedure) k procedure.root.spot arguments) (own_call_remark (visible k procedure.root.text) (is_empty procedure.selectors) k procedure.root arguments)) → FormFits k texts inside (cond b (library_call_found (library_path_found k procedure) k n arguments) (own_call_found (visible k procedure.root.text) (is_empty procedure.selectors) k arguments))
call_fits_at k texts inside n procedure arguments true first w z c room q = library_call_fits k texts inside n (library_path_found k procedure) procedure.root.spot arguments w room q.1
call_fits_at k texts inside n procedure arguments false first w z c room q =
    own_call_fits k texts inside procedure.root.text (visible k procedure.root.text) (is_empty procedure.selectors) procedure.root arguments w (visible_fits k w procedure.root.text) z (visible_called k c procedure.root.text) q

-- a bound of a range is an Integer
pub bound_is : (k : Known) (e : ExpressionTree) → PartsFit k.types k.variables (parts k) → Quiet (bound_remark k e) → fits.has_type k.types k.variables Integer (bound_meant k e) ≡ true
bound_is k e w q =
    is_of_type Integer (fits.type_of k.types k.variables (bound_meant k e))
    (integer_is k.types k.variables (expression_meant k e) (expression_spot e) (expression_fits k e w q.0) q.1)

-- a condition is a Boolean
pub condition_is : (k : Known) (e : ExpressionTree) → PartsFit k.types k.variables (parts k) → Quiet (condition_remark k e) → fits.has_type k.types k.variables Boolean (condition_meant k e) ≡ true
condition_is k e w q =
    is_of_type Boolean (fits.type_of k.types k.variables (condition_meant k e))
    (boolean_is k.types k.variables (expression_meant k e) (expression_spot e) (expression_fits k e w q.0) q.1)

optional_is : (k : Known) (o : Option ExpressionTree) → PartsFit k.types k.variables (parts k) → Quiet (optional_condition_remark k o) → fits.condition_fits k.types k.variables (optional_condition_meant k o) ≡ true
optional_is k None w q = refl
optional_is k (Some e) w q = condition_is k e w q

-- `exit when ..;`
exit_fits : (k : Known) (texts : List (List ℕ)) (inside : Bool) (spot : Spot) (o : Option ExpressionTree) → PartsFit k.types k.variables (parts k) → Quiet (exit_remark k inside spot o) → FormFits k texts inside (exit_found k spot o)
exit_fits k texts inside spot o w q =
    (both_parts inside (fits.condition_fits k.types k.variables (optional_condition_meant k o)) (quiet_unless inside spot NotInProfile q.1.0) (optional_is k o w q.1.1), refl, refl)

-- `raise E;`
raising_fits : (k : Known) (texts : List (List ℕ)) (inside : Bool) (o : Option Exception) → FoundIs k.exceptions o → FormFits k texts inside (raising o)
raising_fits k texts inside (Some e) f = (f, refl, refl)
raising_fits k texts inside None f = tt

found_fits : (k : Known) (texts : List (List ℕ)) (inside : Bool) (statement : StatementTree) → PartsFit k.types k.variables (parts k) → PartsRaised k.exceptions (parts k) → AllSized k.bodies → PartsCalled (length k.bodies) (length k.pools) (parts k) → length k.texts + length (simple_texts statement) ≤ length texts → Quiet (statement_remark k inside statement) → FormFits k texts inside (statement_found k statement)
found_fits k texts inside (null_statement spot) w r z c room q = (refl, refl, refl)
found_fits k texts inside (assignment target value) w r z c room q = assignment_fits k texts inside target value w q
found_fits k texts inside (call procedure arguments) w r z c room q =
    call_fits_at k texts inside (length k.texts) procedure arguments (is_library_root procedure.root.text) _ w z c room q.1
found_fits k texts inside (exit_statement spot condition) w r z c room q = exit_fits k texts inside spot condition w q
found_fits k texts inside (return_statement spot) w r z c room q = (refl, refl, refl)
found_fits k texts inside (raise_statement spot name) w r z c room q = raising_fits k texts inside (exception_found k name) (found_is k name r)
found_fits k texts inside statement w r z c room q = tt

form_fits : (k : Known) (texts : List (List ℕ)) (inside : Bool) (o : Option StmtForm) → FormFits k texts inside o → FormFits k texts inside (Some (form_or_null o))
form_fits k texts inside None h = (refl, refl, refl)
form_fits k texts inside (Some f) h = h

-- what a statement does, where its texts are known behind it
pub meant_fits : (k : Known) (inside : Bool) (statement : StatementTree) → PartsFit k.types k.variables (parts k) → PartsRaised k.exceptions (parts k) → AllSized k.bodies → PartsCalled (length k.bodies) (length k.pools) (parts k) → Quiet (statement_remark k inside statement) → FormFits k (k.texts ++ simple_texts statement) inside (Some (statement_meant k statement))
meant_fits k inside statement w r z c q =
    let texts = k.texts ++ simple_texts statement in
    let parts : length texts ≡ length k.texts + length (simple_texts statement) = length-append k.texts (simple_texts statement) in
    form_fits k texts inside (statement_found k statement) (found_fits k texts inside statement w r z c (omega (arith, parts)) q)
