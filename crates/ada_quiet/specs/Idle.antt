-- Programs whose text creates no object with controlled parts (3.3.1, 4.8), and assigns no record with some (5.2): no run of these calls an operation of a
-- controlled type (7.6, 7.6.1). And programs whose text copies no record with controlled parts: no run of these calls an Adjust (7.6).

use Rattle.std.specs.Prelude.{ℕ, Bool, true, false, ◌&&◌, ◌||◌, not, List, Option, Some, None, is_some}
use Rattle.std.specs.List.{list_any}
use Rattle.ada_program.specs.Form.{RightForm, nothing, value_of, allocates, allocates_default, computes, StmtForm, skips, assigns, assigns_record, frees, gets, writes, writes_text, chooses, repeats, counts, exits, calls, returns, raises, encloses, StmtsForm, no_stmts, a_stmt, BranchesForm, otherwise, a_branch, HandlersForm, no_handlers, a_handler, DeclarationForm, creates_pool, collects, declares, declares_record}
use Rattle.ada_program.specs.ProgramForm.{TypeForm, BodyForm, ProgramForm, main_body}
use Rattle.ada_program.specs.WellFormed.{finalization_of, object_named}

-- A record type has controlled parts (7.6), if it is one.
abbrev pub has_parts : List TypeForm → (record_type : Option ℕ) → Bool
has_parts types None = false
has_parts types (Some r) = is_some (finalization_of types r)

-- So do the objects that an access type designates, or that are known by a type (3.10, 3.3.1).
abbrev pub holds_parts : List TypeForm → (number : ℕ) → Bool
holds_parts types t = has_parts types (object_named types (Some t))

-- What is assigned is a new object with controlled parts (4.8), and not only copies count.
abbrev pub right_makes_parts : List TypeForm → (copies : Bool) → RightForm → Bool
right_makes_parts types copies nothing = false
right_makes_parts types copies (value_of path) = false
right_makes_parts types copies (allocates access items) = not copies && holds_parts types access
right_makes_parts types copies (allocates_default access) = not copies && holds_parts types access
right_makes_parts types copies (computes e) = false

-- A declaration creates an object with some, or a variable is given one at first (3.3.1); where only copies count, such an object has an initial value.
abbrev pub declaration_makes_parts : List TypeForm → (copies : Bool) → DeclarationForm → Bool
declaration_makes_parts types copies (creates_pool p) = false
declaration_makes_parts types copies (collects access) = false
declaration_makes_parts types copies (declares x right) = right_makes_parts types copies right
declaration_makes_parts types copies (declares_record x t None) = not copies && holds_parts types t
declaration_makes_parts types copies (declares_record x t (Some items)) = holds_parts types t

-- One of these declarations does.
abbrev pub declarations_make_parts : List TypeForm → (copies : Bool) → List DeclarationForm → Bool
declarations_make_parts types copies ds = list_any (declaration_makes_parts types copies) ds

module _ (types : List TypeForm) (copies : Bool) where
  abbrev mutual
    -- A statement creates an object with controlled parts, or assigns a record with some as a whole (5.2), which copies another one, by itself or by one inside
    -- it. What a procedure does that is called (6.4), its own body says.
    pub stmt_makes_parts : StmtForm → Bool
    stmt_makes_parts skips = false
    stmt_makes_parts (assigns target right) = right_makes_parts types copies right
    stmt_makes_parts (assigns_record target items) = has_parts types (Some target.record_type)
    stmt_makes_parts (frees access path) = false
    stmt_makes_parts (gets target) = false
    stmt_makes_parts (writes e) = false
    stmt_makes_parts (writes_text text) = false
    stmt_makes_parts (chooses branches) = branches_make_parts branches
    stmt_makes_parts (repeats condition fs spot) = stmts_make_parts fs
    stmt_makes_parts (counts x low high fs spot) = stmts_make_parts fs
    stmt_makes_parts (exits condition spot) = false
    stmt_makes_parts (calls procedure actuals) = false
    stmt_makes_parts (returns spot) = false
    stmt_makes_parts (raises e) = false
    stmt_makes_parts (encloses ds fs hs) = declarations_make_parts types copies ds || stmts_make_parts fs || handlers_make_parts hs

    -- One of these statements does.
    pub stmts_make_parts : StmtsForm → Bool
    stmts_make_parts no_stmts = false
    stmts_make_parts (a_stmt f fs) = stmt_makes_parts f || stmts_make_parts fs

    -- One in these branches does (5.3).
    pub branches_make_parts : BranchesForm → Bool
    branches_make_parts (otherwise fs) = stmts_make_parts fs
    branches_make_parts (a_branch e fs branches) = stmts_make_parts fs || branches_make_parts branches

    -- One in these handlers does (11.2).
    pub handlers_make_parts : HandlersForm → Bool
    handlers_make_parts no_handlers = false
    handlers_make_parts (a_handler choices fs hs) = stmts_make_parts fs || handlers_make_parts hs

-- Something in a body does.
abbrev pub body_makes_parts : List TypeForm → (copies : Bool) → BodyForm → Bool
body_makes_parts types copies b =
    declarations_make_parts types copies b.declarations || stmts_make_parts types copies b.statements || handlers_make_parts types copies b.handlers

-- Something in the text of a program does, whether it is reached or not.
abbrev pub text_makes_parts : (copies : Bool) → ProgramForm → Bool
text_makes_parts copies p = body_makes_parts p.types copies (main_body p) || list_any (body_makes_parts p.types copies) p.bodies

-- Something in it creates an object with controlled parts, or assigns a record with some.
abbrev pub makes_parts : ProgramForm → Bool
makes_parts p = text_makes_parts false p

-- Something in it copies one.
abbrev pub copies_parts : ProgramForm → Bool
copies_parts p = text_makes_parts true p
