-- Where more is known to do a deed, more does it.

use Rattle.std.proofs.Common.{◌≡◌, ℕ, Bool, true, ◌||◌, ◌&&◌, List, [], ◌∷◌, inl, inr}
use Rattle.std.proofs.lemmas.Bool.{or_cases, or_left, or_right, and_parts, and_from}
use Rattle.std.specs.List.{slice_get}
use Rattle.std.specs.Prelude.{Option, Some, None}
use Rattle.ada_deeds.specs.Does.{called_does, operations_do, callee_does, Does, does}
use Rattle.ada_deeds.specs.Forms.{path_does, record_path_does, expression_does, condition_does, actuals_do, allocation_does, freeing_does, is_left, procedure_does, parts_do, creation_does, assignment_does, designated_by, item_does, items_do, right_does, initial_does, declaration_does, declarations_do, ending_does, leaving_does, stmt_does, stmts_do, branches_do, handlers_do, body_does, overriding, overriding_does, own_does, part_does, components_do, type_does}
use Rattle.ada_deeds.specs.Laws.{IsWithin, IsClosed}
use Rattle.ada_deeds.specs.declared.deed.Callee.{Callee}
use Rattle.ada_deeds.specs.declared.deed.Callee.TheVariants as callee
use Rattle.ada_deeds.specs.declared.deed.Deed.{Deed}
use Rattle.ada_deeds.specs.declared.deed.Operation.{Operation}
use Rattle.ada_deeds.specs.declared.deed.Operation.TheVariants.{Initialize, Adjust, Finalize}
use Rattle.ada_program.specs.declared.program.Finalization.{Finalization}
use Rattle.ada_program.specs.declared.program.PartKind.{PartKind}
use Rattle.ada_program.specs.declared.program.PartKind.TheVariants as part
use Rattle.ada_program.specs.declared.program.ProcedureNo.{ProcedureNo}
use Rattle.ada_program.specs.Form.{ItemForm, null_item, item_of_path, item_of_value, item_of_record, RightForm, nothing, value_of, allocates, allocates_default, computes, DeclarationForm, creates_pool, collects, declares, declares_record, StmtForm, skips, assigns, assigns_record, frees, gets, writes, writes_text, chooses, repeats, counts, exits, calls, returns, raises, encloses, StmtsForm, no_stmts, a_stmt, BranchesForm, otherwise, a_branch, HandlersForm, no_handlers, a_handler}
use Rattle.ada_program.specs.ProgramForm.{PartForm, TypeForm, record_of, access_to, object_of, VariableForm, BodyForm, ProgramForm}
use Rattle.ada_program.specs.WellFormed.{designated_type, object_in, path_access}

-- A yes stays a yes.
abbrev pub Stays : (before after : Bool) → Type 0
Stays a b = a ≡ true → b ≡ true

pub either : (a b c d : Bool) → Stays a c → Stays b d → Stays (a || b) (c || d)
either a b c d f g h = elim (or_cases a b h) [ inl x ↦ or_left c d (f x) | inr y ↦ or_right c d (g y) ]

pub behind : (a b d : Bool) → Stays b d → Stays (a || b) (a || d)
behind a b d g h = either a b a d (λ x. x) g h

pub both : (a b d : Bool) → Stays b d → Stays (a && b) (a && d)
both a b d g h = let parts = and_parts a b h in and_from a d parts.0 (g parts.1)

parts_stay : (p q : Callee → Bool) → IsWithin p q → (o : Operation) (t : Option ℕ) → Stays (parts_do p o t) (parts_do q o t)
parts_stay p q w o None h = cc
parts_stay p q w o (Some t) h = w (callee.Parts o (record { 0 = t })) h

creation_stays : (p q : Callee → Bool) → IsWithin p q → (t : Option ℕ) → Stays (creation_does p t) (creation_does q t)
creation_stays p q w t =
    either (parts_do p Initialize t) (parts_do p Finalize t) (parts_do q Initialize t) (parts_do q Finalize t) (parts_stay p q w Initialize t) (parts_stay p q w Finalize t)

assignment_stays : (p q : Callee → Bool) → IsWithin p q → (t : ℕ) → Stays (assignment_does p t) (assignment_does q t)
assignment_stays p q w t =
    either (parts_do p Adjust (Some t)) (parts_do p Finalize (Some t)) (parts_do q Adjust (Some t)) (parts_do q Finalize (Some t))
    (parts_stay p q w Adjust (Some t)) (parts_stay p q w Finalize (Some t))

item_stays : (types : List TypeForm) (variables : List VariableForm) (d : Deed) (p q : Callee → Bool) → IsWithin p q → (i : ItemForm) →
    Stays (item_does types variables p d i) (item_does types variables q d i)
item_stays types variables d p q w null_item h = cc
item_stays types variables d p q w (item_of_path path) h = h
item_stays types variables d p q w (item_of_value e) h = h
item_stays types variables d p q w (item_of_record r) h =
    behind (record_path_does types variables d r) (parts_do p Adjust (Some r.record_type)) (parts_do q Adjust (Some r.record_type)) (parts_stay p q w Adjust (Some r.record_type)) h

items_stay : (types : List TypeForm) (variables : List VariableForm) (d : Deed) (p q : Callee → Bool) → IsWithin p q → (is : List ItemForm) →
    Stays (items_do types variables p d is) (items_do types variables q d is)
items_stay types variables d p q w [] h = cc
items_stay types variables d p q w (i ∷ is) h =
    either (item_does types variables p d i) (items_do types variables p d is) (item_does types variables q d i) (items_do types variables q d is)
    (item_stays types variables d p q w i) (items_stay types variables d p q w is) h

right_stays : (types : List TypeForm) (variables : List VariableForm) (d : Deed) (p q : Callee → Bool) → IsWithin p q → (right : RightForm) →
    Stays (right_does types variables p d right) (right_does types variables q d right)
right_stays types variables d p q w nothing h = cc
right_stays types variables d p q w (value_of path) h = h
right_stays types variables d p q w (allocates access items) h =
    let t = designated_type types access in
    either (allocation_does d || items_do types variables p d items) (creation_does p t) (allocation_does d || items_do types variables q d items) (creation_does q t)
    (behind (allocation_does d) (items_do types variables p d items) (items_do types variables q d items) (items_stay types variables d p q w items))
    (creation_stays p q w t) h
right_stays types variables d p q w (allocates_default access) h =
    let t = designated_type types access in
    behind (allocation_does d) (creation_does p t) (creation_does q t) (creation_stays p q w t) h
right_stays types variables d p q w (computes e) h = h

initial_stays : (types : List TypeForm) (variables : List VariableForm) (d : Deed) (p q : Callee → Bool) → IsWithin p q →
    (t : Option ℕ) (initial : Option (List ItemForm)) → Stays (initial_does types variables p d t initial) (initial_does types variables q d t initial)
initial_stays types variables d p q w t None h = creation_stays p q w t h
initial_stays types variables d p q w t (Some items) h = items_stay types variables d p q w items h

declaration_stays : (types : List TypeForm) (variables : List VariableForm) (d : Deed) (p q : Callee → Bool) → IsWithin p q → (c : DeclarationForm) →
    Stays (declaration_does types variables p d c) (declaration_does types variables q d c)
declaration_stays types variables d p q w (creates_pool pool) h = cc
declaration_stays types variables d p q w (collects access) h = cc
declaration_stays types variables d p q w (declares x right) h = right_stays types variables d p q w right h
declaration_stays types variables d p q w (declares_record x object initial) h =
    initial_stays types variables d p q w (object_in (slice_get types object)) initial h

declarations_stay : (types : List TypeForm) (variables : List VariableForm) (d : Deed) (p q : Callee → Bool) → IsWithin p q → (cs : List DeclarationForm) →
    Stays (declarations_do types variables p d cs) (declarations_do types variables q d cs)
declarations_stay types variables d p q w [] h = cc
declarations_stay types variables d p q w (c ∷ cs) h =
    either (declaration_does types variables p d c) (declarations_do types variables p d cs) (declaration_does types variables q d c) (declarations_do types variables q d cs)
    (declaration_stays types variables d p q w c) (declarations_stay types variables d p q w cs) h

ending_stays : (types : List TypeForm) (p q : Callee → Bool) → IsWithin p q → (c : DeclarationForm) → Stays (ending_does types p c) (ending_does types q c)
ending_stays types p q w (creates_pool pool) h = cc
ending_stays types p q w (collects access) h = parts_stay p q w Finalize (designated_type types access) h
ending_stays types p q w (declares x right) h = cc
ending_stays types p q w (declares_record x object initial) h = parts_stay p q w Finalize (object_in (slice_get types object)) h

leaving_stays : (types : List TypeForm) (p q : Callee → Bool) → IsWithin p q → (cs : List DeclarationForm) → Stays (leaving_does types p cs) (leaving_does types q cs)
leaving_stays types p q w [] h = cc
leaving_stays types p q w (c ∷ cs) h =
    either (ending_does types p c) (leaving_does types p cs) (ending_does types q c) (leaving_does types q cs) (ending_stays types p q w c) (leaving_stays types p q w cs) h

-- The parts of a block or of a body.
master_stays : (a l b c e b' c' e' a' : Bool) → Stays a a' → Stays b b' → Stays c c' → Stays e e' →
    Stays (a || (l && b) || c || e) (a' || (l && b') || c' || e')
master_stays a l b c e b' c' e' a' f g h k =
    either (a || (l && b) || c) e (a' || (l && b') || c') e'
    (either (a || (l && b)) c (a' || (l && b')) c' (either a (l && b) a' (l && b') f (both l b b' g)) h) k

mutual
  stmt_stays : (types : List TypeForm) (variables : List VariableForm) (d : Deed) (p q : Callee → Bool) → IsWithin p q → (f : StmtForm) →
      Stays (stmt_does types variables p d f) (stmt_does types variables q d f)
  stmt_stays types variables d p q w skips h = cc
  stmt_stays types variables d p q w (assigns target right) h =
      behind (path_does types variables d target) (right_does types variables p d right) (right_does types variables q d right)
      (right_stays types variables d p q w right) h
  stmt_stays types variables d p q w (assigns_record target items) h =
      let t = target.record_type in
      let follows = record_path_does types variables d target in
      either (follows || items_do types variables p d items) (assignment_does p t) (follows || items_do types variables q d items) (assignment_does q t)
      (behind follows (items_do types variables p d items) (items_do types variables q d items) (items_stay types variables d p q w items)) (assignment_stays p q w t) h
  stmt_stays types variables d p q w (frees access path) h =
      let a = path_access types variables path in
      let t = designated_by types a in
      behind (path_does types variables d path || freeing_does d a) (parts_do p Finalize t) (parts_do q Finalize t) (parts_stay p q w Finalize t) h
  stmt_stays types variables d p q w (gets target) h = h
  stmt_stays types variables d p q w (writes e) h = h
  stmt_stays types variables d p q w (writes_text text) h = h
  stmt_stays types variables d p q w (chooses branches) h = branches_stay types variables d p q w branches h
  stmt_stays types variables d p q w (repeats condition fs end_spot) h =
      behind (condition_does types variables d condition) (stmts_do types variables p d fs) (stmts_do types variables q d fs) (stmts_stay types variables d p q w fs) h
  stmt_stays types variables d p q w (counts x low high fs end_spot) h =
      behind (expression_does types variables d low || expression_does types variables d high) (stmts_do types variables p d fs) (stmts_do types variables q d fs)
      (stmts_stay types variables d p q w fs) h
  stmt_stays types variables d p q w (exits condition spot) h = h
  stmt_stays types variables d p q w (calls procedure actuals) h =
      behind (actuals_do types variables d actuals) (procedure_does p procedure) (procedure_does q procedure) (w (callee.Procedure (record { 0 = procedure }))) h
  stmt_stays types variables d p q w (returns spot) h = h
  stmt_stays types variables d p q w (raises e) h = h
  stmt_stays types variables d p q w (encloses ds fs hs) h =
      master_stays (declarations_do types variables p d ds) (is_left hs d) (stmts_do types variables p d fs) (handlers_do types variables p d hs) (leaving_does types p ds)
      (stmts_do types variables q d fs) (handlers_do types variables q d hs) (leaving_does types q ds) (declarations_do types variables q d ds)
      (declarations_stay types variables d p q w ds) (stmts_stay types variables d p q w fs) (handlers_stay types variables d p q w hs) (leaving_stays types p q w ds) h

  stmts_stay : (types : List TypeForm) (variables : List VariableForm) (d : Deed) (p q : Callee → Bool) → IsWithin p q → (fs : StmtsForm) →
      Stays (stmts_do types variables p d fs) (stmts_do types variables q d fs)
  stmts_stay types variables d p q w no_stmts h = cc
  stmts_stay types variables d p q w (a_stmt f fs) h =
      either (stmt_does types variables p d f) (stmts_do types variables p d fs) (stmt_does types variables q d f) (stmts_do types variables q d fs)
      (stmt_stays types variables d p q w f) (stmts_stay types variables d p q w fs) h

  branches_stay : (types : List TypeForm) (variables : List VariableForm) (d : Deed) (p q : Callee → Bool) → IsWithin p q → (bs : BranchesForm) →
      Stays (branches_do types variables p d bs) (branches_do types variables q d bs)
  branches_stay types variables d p q w (otherwise fs) h = stmts_stay types variables d p q w fs h
  branches_stay types variables d p q w (a_branch e fs bs) h =
      let fails = expression_does types variables d e in
      either (fails || stmts_do types variables p d fs) (branches_do types variables p d bs) (fails || stmts_do types variables q d fs) (branches_do types variables q d bs)
      (behind fails (stmts_do types variables p d fs) (stmts_do types variables q d fs) (stmts_stay types variables d p q w fs)) (branches_stay types variables d p q w bs) h

  handlers_stay : (types : List TypeForm) (variables : List VariableForm) (d : Deed) (p q : Callee → Bool) → IsWithin p q → (hs : HandlersForm) →
      Stays (handlers_do types variables p d hs) (handlers_do types variables q d hs)
  handlers_stay types variables d p q w no_handlers h = cc
  handlers_stay types variables d p q w (a_handler cs fs hs) h =
      either (stmts_do types variables p d fs) (handlers_do types variables p d hs) (stmts_do types variables q d fs) (handlers_do types variables q d hs)
      (stmts_stay types variables d p q w fs) (handlers_stay types variables d p q w hs) h

body_stays : (types : List TypeForm) (d : Deed) (p q : Callee → Bool) → IsWithin p q → (b : BodyForm) → Stays (body_does types p d b) (body_does types q d b)
body_stays types d p q w b h =
    let variables = b.variables in
    master_stays (declarations_do types variables p d b.declarations) (is_left b.handlers d) (stmts_do types variables p d b.statements) (handlers_do types variables p d b.handlers) (leaving_does types p b.declarations)
    (stmts_do types variables q d b.statements) (handlers_do types variables q d b.handlers) (leaving_does types q b.declarations) (declarations_do types variables q d b.declarations)
    (declarations_stay types variables d p q w b.declarations) (stmts_stay types variables d p q w b.statements) (handlers_stay types variables d p q w b.handlers) (leaving_stays types p q w b.declarations) h

overriding_stays : (p q : Callee → Bool) → IsWithin p q → (procedure : Option ProcedureNo) → Stays (overriding_does p procedure) (overriding_does q procedure)
overriding_stays p q w None h = cc
overriding_stays p q w (Some procedure) h = w (callee.Procedure procedure) h

own_stays : (p q : Callee → Bool) → IsWithin p q → (o : Operation) (f : Option Finalization) → Stays (own_does p o f) (own_does q o f)
own_stays p q w o None h = cc
own_stays p q w o (Some f) h = overriding_stays p q w (overriding o f.operations) h

part_stays : (p q : Callee → Bool) → IsWithin p q → (o : Operation) (kind : PartKind) → Stays (part_does p o kind) (part_does q o kind)
part_stays p q w o (part.Elementary kind) h = cc
part_stays p q w o (part.Record t) h = w (callee.Parts o t) h
part_stays p q w o part.Parent h = cc

components_stay : (p q : Callee → Bool) → IsWithin p q → (o : Operation) (ps : List PartForm) → Stays (components_do p o ps) (components_do q o ps)
components_stay p q w o [] h = cc
components_stay p q w o (c ∷ cs) h =
    either (part_does p o c.kind) (components_do p o cs) (part_does q o c.kind) (components_do q o cs) (part_stays p q w o c.kind) (components_stay p q w o cs) h

type_stays : (p q : Callee → Bool) → IsWithin p q → (o : Operation) (t : TypeForm) → Stays (type_does p o t) (type_does q o t)
type_stays p q w o (record_of name parts components finalization) h =
    either (own_does p o finalization) (components_do p o parts) (own_does q o finalization) (components_do q o parts)
    (own_stays p q w o finalization) (components_stay p q w o parts) h
type_stays p q w o (access_to name designated pool) h = cc
type_stays p q w o (object_of record_type) h = cc

called_stays : (types : List TypeForm) (d : Deed) (p q : Callee → Bool) → IsWithin p q → (b : Option BodyForm) → Stays (called_does types p d b) (called_does types q d b)
called_stays types d p q w None h = cc
called_stays types d p q w (Some b) h = body_stays types d p q w b h

operations_stay : (p q : Callee → Bool) → IsWithin p q → (o : Operation) (t : Option TypeForm) → Stays (operations_do p o t) (operations_do q o t)
operations_stay p q w o None h = cc
operations_stay p q w o (Some t) h = type_stays p q w o t h

pub callee_stays : (program : ProgramForm) (d : Deed) (p q : Callee → Bool) → IsWithin p q → (c : Callee) → Stays (callee_does program p d c) (callee_does program q d c)
callee_stays program d p q w (callee.Procedure procedure) h = called_stays program.types d p q w (slice_get program.bodies procedure.0) h
callee_stays program d p q w (callee.Parts o t) h = operations_stay p q w o (slice_get program.types t.0) h

-- What does a deed is in each closed set.
pub least : (program : ProgramForm) (d : Deed) (set : Callee → Bool) → IsClosed program d set → (c : Callee) → Does program d c → set c ≡ true
least program d set closed c (does of known each h) =
    closed c (callee_stays program d known set (λ other k. least program d set closed other (each other k)) c h)
