-- What the code finds on its way: what has begun, what is settled, and what is left.

use Rattle.std.specs.Prelude.{ℕ, zero, suc, Bool, List, Option, map, option_to_list}
use Rattle.ada_text.specs.declared.spot.Spot.{Spot}
use Rattle.ada_tree.specs.declared.declarations.Declaration.{Declaration}
use Rattle.ada_tree.specs.declared.statements.Branch.{Branch}
use Rattle.ada_tree.specs.declared.statements.Handler.{Handler}
use Rattle.ada_tree.specs.declared.statements.Statement.{Statement}
use Rattle.ada_tree.specs.Statements.{DeclarationsTree, no_declarations, a_declaration, DeclarationTree, record_type, StatementsTree, BranchesTree, branches_from, HandlersTree, handlers_from}
use Rattle.ada_tree.specs.StatementView.{branch_of, declaration_of, declarations_of, handler_of, statement_of, statements_of}
use Rattle.ada_tree.specs.Declarations.{HeadTree}
use Rattle.ada_tree.specs.Names.{Ident, ident_of}
use Rattle.ada_tree.specs.Records.{null_record}
use Rattle.ada_front.specs.declared.settle.Lack.{Lack}
use Rattle.ada_front.specs.declared.settle.Lack.TheVariants as lack
use Rattle.ada_front.specs.Front.{completes, has_begun, is_body_of, settled, settled_all}
use Rattle.ada_front.specs.Spots.{declaration_start, expression_start, statement_start}

-- A declaration has begun by the fault.
abbrev pub declaration_begun : (fault : Spot) → Declaration → Bool
declaration_begun fault d = has_begun fault (declaration_start (declaration_of d))

-- A statement has.
abbrev pub statement_begun : (fault : Spot) → Statement → Bool
statement_begun fault s = has_begun fault (statement_start (statement_of s))

-- A branch has: its condition.
abbrev pub branch_begun : (fault : Spot) → Branch → Bool
branch_begun fault b = has_begun fault (expression_start (branch_of b).condition)

-- A handler has.
abbrev pub handler_begun : (fault : Spot) → Handler → Bool
handler_begun fault h = has_begun fault (handler_of h).spot

-- A declaration is a body of an operation with this head.
abbrev pub is_body_in : HeadTree → Declaration → Bool
is_body_in head d = is_body_of head (declaration_of d)

-- A declaration completes the incomplete type of this name.
abbrev pub completes_in : Ident → Declaration → Bool
completes_in name d = completes name (declaration_of d)

-- A declaration that lacks this, before those behind it, once that is taken out.
abbrev pub settled_as : Lack → DeclarationTree → DeclarationsTree → DeclarationsTree
settled_as lack.Nothing d ds = a_declaration d ds
settled_as lack.Body d ds = ds
settled_as (lack.Completion spot name) d ds = a_declaration (record_type spot (ident_of name) null_record) ds

-- The one at this place is settled, before those behind it.
unfoldable pub settled_at : (at : ℕ) → DeclarationsTree → DeclarationsTree
settled_at at no_declarations = no_declarations
settled_at zero (a_declaration d ds) = settled d ds
settled_at (suc at) (a_declaration d ds) = a_declaration d (settled_at at ds)

-- Those from this place on are settled.
unfoldable pub settled_from : (at : ℕ) → DeclarationsTree → DeclarationsTree
settled_from at no_declarations = no_declarations
settled_from zero (a_declaration d ds) = settled_all (a_declaration d ds)
settled_from (suc at) (a_declaration d ds) = a_declaration d (settled_from at ds)

-- A list of branches.
abbrev pub branches_of : List Branch → BranchesTree
branches_of bs = branches_from (map branch_of bs)

-- A list of handlers.
abbrev pub handlers_of : List Handler → HandlersTree
handlers_of hs = handlers_from (map handler_of hs)

-- A declaration that is left, or none.
abbrev pub declarations_left : Option Declaration → DeclarationsTree
declarations_left d = declarations_of (option_to_list d)

-- A statement that is left, or none.
abbrev pub statements_left : Option Statement → StatementsTree
statements_left s = statements_of (option_to_list s)

-- A branch that is left, or none.
abbrev pub branches_left : Option Branch → BranchesTree
branches_left b = branches_of (option_to_list b)

-- A handler that is left, or none.
abbrev pub handlers_left : Option Handler → HandlersTree
handlers_left h = handlers_of (option_to_list h)
