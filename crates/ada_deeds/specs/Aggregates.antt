-- Aggregates (4.3.1) that give no record controlled parts which its type has not: so it is in any source, where a record has the parts of its components (7.6).

use Rattle.std.specs.Prelude.{ℕ, Bool, true, ◌&&◌, not, List, Option, Some, None, is_some}
use Rattle.std.specs.List.{list_all, slice_get}
use Rattle.ada_program.specs.declared.program.Finalization.{Finalization}
use Rattle.ada_program.specs.Form.{ItemForm, null_item, item_of_path, item_of_value, item_of_record, RightForm, nothing, value_of, allocates, allocates_default, computes, DeclarationForm, creates_pool, collects, declares, declares_record, StmtForm, skips, assigns, assigns_record, frees, gets, writes, writes_text, chooses, repeats, counts, exits, calls, returns, raises, encloses, StmtsForm, no_stmts, a_stmt, BranchesForm, otherwise, a_branch, HandlersForm, no_handlers, a_handler}
use Rattle.ada_program.specs.ProgramForm.{TypeForm, BodyForm, ProgramForm}
use Rattle.ada_program.specs.WellFormed.{finalization_of, object_in}

-- An item is no record with controlled parts.
abbrev pub item_is_plain : List TypeForm → ItemForm → Bool
item_is_plain types null_item = true
item_is_plain types (item_of_path path) = true
item_is_plain types (item_of_value e) = true
item_is_plain types (item_of_record p) = not (is_some (finalization_of types p.record_type))

-- None of these is one.
abbrev pub items_are_plain : List TypeForm → List ItemForm → Bool
items_are_plain types items = list_all (item_is_plain types) items

-- They suit a record, by how its objects are finalized: where they have no controlled parts, none of the items has some.
abbrev pub items_suit : List TypeForm → Option Finalization → List ItemForm → Bool
items_suit types None items = items_are_plain types items
items_suit types (Some f) items = true

-- They suit an object of a record type, where there is one.
abbrev pub items_suit_object : List TypeForm → (record_type : Option ℕ) → List ItemForm → Bool
items_suit_object types None items = items_are_plain types items
items_suit_object types (Some t) items = items_suit types (finalization_of types t) items

-- What is assigned: the object of an allocator with items has no controlled parts (4.8).
abbrev pub right_suits : List TypeForm → RightForm → Bool
right_suits types nothing = true
right_suits types (value_of path) = true
right_suits types (allocates access items) = items_are_plain types items
right_suits types (allocates_default access) = true
right_suits types (computes e) = true

-- What a record object is given at first (3.3.1).
abbrev pub initial_suits : List TypeForm → (record_type : Option ℕ) → Option (List ItemForm) → Bool
initial_suits types t None = true
initial_suits types t (Some items) = items_suit_object types t items

-- A declaration (3.11).
abbrev pub declaration_suits : List TypeForm → DeclarationForm → Bool
declaration_suits types (creates_pool pool) = true
declaration_suits types (collects access) = true
declaration_suits types (declares x right) = right_suits types right
declaration_suits types (declares_record x object initial) = initial_suits types (object_in (slice_get types object)) initial

abbrev mutual
  -- A statement (5.1).
  pub stmt_suits : List TypeForm → StmtForm → Bool
  stmt_suits types skips = true
  stmt_suits types (assigns target right) = right_suits types right
  stmt_suits types (assigns_record target items) = items_suit_object types (Some target.record_type) items
  stmt_suits types (frees access path) = true
  stmt_suits types (gets target) = true
  stmt_suits types (writes e) = true
  stmt_suits types (writes_text text) = true
  stmt_suits types (chooses branches) = branches_suit types branches
  stmt_suits types (repeats condition fs end_spot) = stmts_suit types fs
  stmt_suits types (counts x low high fs end_spot) = stmts_suit types fs
  stmt_suits types (exits condition spot) = true
  stmt_suits types (calls procedure actuals) = true
  stmt_suits types (returns spot) = true
  stmt_suits types (raises e) = true
  stmt_suits types (encloses ds fs hs) = list_all (declaration_suits types) ds && stmts_suit types fs && handlers_suit types hs

  -- Statements.
  pub stmts_suit : List TypeForm → StmtsForm → Bool
  stmts_suit types no_stmts = true
  stmts_suit types (a_stmt f fs) = stmt_suits types f && stmts_suit types fs

  -- Branches (5.3).
  pub branches_suit : List TypeForm → BranchesForm → Bool
  branches_suit types (otherwise fs) = stmts_suit types fs
  branches_suit types (a_branch e fs branches) = stmts_suit types fs && branches_suit types branches

  -- The statements of handlers (11.2).
  pub handlers_suit : List TypeForm → HandlersForm → Bool
  handlers_suit types no_handlers = true
  handlers_suit types (a_handler choices fs hs) = stmts_suit types fs && handlers_suit types hs

-- A body (6.3).
abbrev pub body_suits : List TypeForm → BodyForm → Bool
body_suits types b = list_all (declaration_suits types) b.declarations && stmts_suit types b.statements && handlers_suit types b.handlers

-- Those of the procedures of a program.
abbrev pub aggregates_suit : ProgramForm → Bool
aggregates_suit p = list_all (body_suits p.types) p.bodies
