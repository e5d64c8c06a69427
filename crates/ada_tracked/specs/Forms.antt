-- The forms of a body as they are judged: each path that begins with a tracked component begins with what that holds, and so does the way to a record that is an
-- item or is assigned to. Calls and their actual parameters stay as they are.

use Rattle.std.specs.Prelude.{List, [], ◌∷◌, Option, Some, None}
use Rattle.ada_program.specs.Form.{RecordPathForm, ExpressionForm, integer, boolean, reads, is_null, applied_to, chained, LinksForm, no_more_links, a_link, ItemForm, null_item, item_of_path, item_of_value, item_of_record, RightForm, nothing, value_of, allocates, allocates_default, computes, DeclarationForm, creates_pool, collects, declares, declares_record, StmtForm, skips, assigns, assigns_record, frees, gets, writes, writes_text, chooses, repeats, counts, exits, calls, returns, raises, encloses, StmtsForm, no_stmts, a_stmt, BranchesForm, otherwise, a_branch, HandlersForm, no_handlers, a_handler}
use Rattle.ada_flow.specs.Tracking.{Tracks, seen}

abbrev mutual
  -- An expression (4.4).
  pub seen_expression : Tracks → ExpressionForm → ExpressionForm
  seen_expression tracks (integer i) = integer i
  seen_expression tracks (boolean b) = boolean b
  seen_expression tracks (reads path) = reads (seen tracks path)
  seen_expression tracks (is_null equal path) = is_null equal (seen tracks path)
  seen_expression tracks (applied_to operator e) = applied_to operator (seen_expression tracks e)
  seen_expression tracks (chained e links) = chained (seen_expression tracks e) (seen_links tracks links)

  -- The operators of a chain with their operands (4.5).
  pub seen_links : Tracks → LinksForm → LinksForm
  seen_links tracks no_more_links = no_more_links
  seen_links tracks (a_link operator e links) = a_link operator (seen_expression tracks e) (seen_links tracks links)

-- The condition of a loop or of an exit, where there is one.
abbrev pub seen_condition : Tracks → Option ExpressionForm → Option ExpressionForm
seen_condition tracks None = None
seen_condition tracks (Some e) = Some (seen_expression tracks e)

-- The way to a record that is copied or assigned to (4.1).
abbrev pub seen_record : Tracks → RecordPathForm → RecordPathForm
seen_record tracks p = record p { object = seen tracks p.object }

-- An item of an aggregate (4.3.1).
abbrev pub seen_item : Tracks → ItemForm → ItemForm
seen_item tracks null_item = null_item
seen_item tracks (item_of_path path) = item_of_path (seen tracks path)
seen_item tracks (item_of_value e) = item_of_value (seen_expression tracks e)
seen_item tracks (item_of_record p) = item_of_record (seen_record tracks p)

-- All of them.
abbrev pub seen_items : Tracks → List ItemForm → List ItemForm
seen_items tracks [] = []
seen_items tracks (i ∷ is) = seen_item tracks i ∷ seen_items tracks is

-- What is assigned (5.2).
abbrev pub seen_right : Tracks → RightForm → RightForm
seen_right tracks nothing = nothing
seen_right tracks (value_of path) = value_of (seen tracks path)
seen_right tracks (allocates access items) = allocates access (seen_items tracks items)
seen_right tracks (allocates_default access) = allocates_default access
seen_right tracks (computes e) = computes (seen_expression tracks e)

-- The items of an initial value, where there is one.
abbrev pub seen_initial : Tracks → Option (List ItemForm) → Option (List ItemForm)
seen_initial tracks None = None
seen_initial tracks (Some items) = Some (seen_items tracks items)

-- A declaration (3.11).
abbrev pub seen_declaration : Tracks → DeclarationForm → DeclarationForm
seen_declaration tracks (creates_pool p) = creates_pool p
seen_declaration tracks (collects access) = collects access
seen_declaration tracks (declares x right) = declares x (seen_right tracks right)
seen_declaration tracks (declares_record x t initial) = declares_record x t (seen_initial tracks initial)

-- All of them.
abbrev pub seen_declarations : Tracks → List DeclarationForm → List DeclarationForm
seen_declarations tracks [] = []
seen_declarations tracks (d ∷ ds) = seen_declaration tracks d ∷ seen_declarations tracks ds

abbrev mutual
  -- A statement (5.1).
  pub seen_stmt : Tracks → StmtForm → StmtForm
  seen_stmt tracks skips = skips
  seen_stmt tracks (assigns target right) = assigns (seen tracks target) (seen_right tracks right)
  seen_stmt tracks (assigns_record target items) = assigns_record (seen_record tracks target) (seen_items tracks items)
  seen_stmt tracks (frees access path) = frees access (seen tracks path)
  seen_stmt tracks (gets target) = gets (seen tracks target)
  seen_stmt tracks (writes e) = writes (seen_expression tracks e)
  seen_stmt tracks (writes_text text) = writes_text text
  seen_stmt tracks (chooses branches) = chooses (seen_branches tracks branches)
  seen_stmt tracks (repeats condition fs spot) = repeats (seen_condition tracks condition) (seen_stmts tracks fs) spot
  seen_stmt tracks (counts x low high fs spot) = counts x (seen_expression tracks low) (seen_expression tracks high) (seen_stmts tracks fs) spot
  seen_stmt tracks (exits condition spot) = exits (seen_condition tracks condition) spot
  seen_stmt tracks (calls procedure actuals) = calls procedure actuals
  seen_stmt tracks (returns spot) = returns spot
  seen_stmt tracks (raises e) = raises e
  seen_stmt tracks (encloses ds fs hs) = encloses (seen_declarations tracks ds) (seen_stmts tracks fs) (seen_handlers tracks hs)

  -- Statements, in order.
  pub seen_stmts : Tracks → StmtsForm → StmtsForm
  seen_stmts tracks no_stmts = no_stmts
  seen_stmts tracks (a_stmt f fs) = a_stmt (seen_stmt tracks f) (seen_stmts tracks fs)

  -- Branches of an `if` (5.3).
  pub seen_branches : Tracks → BranchesForm → BranchesForm
  seen_branches tracks (otherwise fs) = otherwise (seen_stmts tracks fs)
  seen_branches tracks (a_branch e fs branches) = a_branch (seen_expression tracks e) (seen_stmts tracks fs) (seen_branches tracks branches)

  -- Handlers, in order (11.2).
  pub seen_handlers : Tracks → HandlersForm → HandlersForm
  seen_handlers tracks no_handlers = no_handlers
  seen_handlers tracks (a_handler choices fs hs) = a_handler choices (seen_stmts tracks fs) (seen_handlers tracks hs)
