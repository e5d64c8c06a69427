-- The order in which the collections of a program are created (7.6.1).

use Rattle.std.specs.Prelude.{ℕ, ◌+◌, Bool, ◌&&◌, ◌||◌, ◌==◌, nat_lt, if◌then◌else◌, List, [], ◌∷◌, ◌++◌, flat_map, Option, Some, None}
use Rattle.ada_operations.specs.declared.places.Place.{Place}
use Rattle.ada_program.specs.Form.{StmtForm, skips, assigns, assigns_record, frees, gets, writes, writes_text, chooses, repeats, counts, exits, calls, returns, raises, encloses, StmtsForm, no_stmts, a_stmt, BranchesForm, otherwise, a_branch, HandlersForm, no_handlers, a_handler}
use Rattle.ada_program.specs.Nested.{collected}
use Rattle.ada_program.specs.ProgramForm.{BodyForm, ProgramForm, main_body}

abbrev mutual
  -- The collections that the blocks in a statement create, those of one declarative part together (5.6).
  pub stmt_collections : StmtForm → List (List ℕ)
  stmt_collections skips = []
  stmt_collections (assigns target right) = []
  stmt_collections (assigns_record target items) = []
  stmt_collections (frees access path) = []
  stmt_collections (gets target) = []
  stmt_collections (writes e) = []
  stmt_collections (writes_text text) = []
  stmt_collections (chooses branches) = branches_collections branches
  stmt_collections (repeats condition fs end_spot) = stmts_collections fs
  stmt_collections (counts x low high fs end_spot) = stmts_collections fs
  stmt_collections (exits condition spot) = []
  stmt_collections (calls procedure actuals) = []
  stmt_collections (returns spot) = []
  stmt_collections (raises e) = []
  stmt_collections (encloses ds fs hs) = collected ds ∷ stmts_collections fs ++ handlers_collections hs

  -- Those of statements.
  pub stmts_collections : StmtsForm → List (List ℕ)
  stmts_collections no_stmts = []
  stmts_collections (a_stmt f fs) = stmt_collections f ++ stmts_collections fs

  -- Those of branches.
  pub branches_collections : BranchesForm → List (List ℕ)
  branches_collections (otherwise fs) = stmts_collections fs
  branches_collections (a_branch e fs branches) = stmts_collections fs ++ branches_collections branches

  -- Those of handlers.
  pub handlers_collections : HandlersForm → List (List ℕ)
  handlers_collections no_handlers = []
  handlers_collections (a_handler choices fs hs) = stmts_collections fs ++ handlers_collections hs

-- Those of a body.
abbrev pub body_collections : BodyForm → List (List ℕ)
body_collections b = collected b.declarations ∷ stmts_collections b.statements ++ handlers_collections b.handlers

-- Those of a program.
abbrev pub collections_of : ProgramForm → List (List ℕ)
collections_of p = body_collections (main_body p) ++ flat_map body_collections p.bodies

-- Where a collection is created, if it is one of these: in a part that is known by its first collection, behind some others of the part.
abbrev pub place_from : (part order : ℕ) → List ℕ → (access : ℕ) → Option Place
place_from part order [] t = None
place_from part order (u ∷ us) t = if u == t then Some (record { part = part; order = order }) else place_from part (order + 1) us t

-- If it is one of those that a declarative part creates: they are created in order.
abbrev pub place_in : List ℕ → (access : ℕ) → Option Place
place_in [] t = None
place_in (u ∷ us) t = place_from u 0 (u ∷ us) t

-- A place, or else another one, where they are there.
abbrev pub or_else : Option Place → Option Place → Option Place
or_else None other = other
or_else (Some place) other = Some place

-- If it is one of those that some declarative parts create.
abbrev pub place_among : (parts : List (List ℕ)) → (access : ℕ) → Option Place
place_among [] t = None
place_among (us ∷ parts) t = or_else (place_in us t) (place_among parts t)

-- A place; where there is none, an access type stands for a part of its own. In a well-formed program each has its place.
abbrev pub or_alone : (access : ℕ) → Option Place → Place
or_alone t None = record { part = t; order = 0 }
or_alone t (Some place) = place

-- Where the collection of an access type is created.
abbrev pub place_of : (parts : List (List ℕ)) → (access : ℕ) → Place
place_of parts t = or_alone t (place_among parts t)

-- A place stands before another one. The types of a program are numbered in the order of the text, and those of one declarative part stand together: of two
-- parts that one comes first whose first collection is that of the type with the less number.
abbrev pub precedes : Place → Place → Bool
precedes a b = nat_lt a.part b.part || ((a.part == b.part) && nat_lt a.order b.order)

-- Is the collection of one access type created before that of another one?
abbrev pub is_created_before : (parts : List (List ℕ)) → (access other : ℕ) → Bool
is_created_before parts u t = precedes (place_of parts u) (place_of parts t)
