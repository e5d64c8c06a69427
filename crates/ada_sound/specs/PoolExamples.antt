-- The statements and the events of the programs by which the laws show where words go back to that have declared pools.

use Rattle.std.specs.Prelude.{◌≡◌, ℕ, List, [], ◌∷◌, Some, None, pos}
use Rattle.ada_program.specs.declared.program.Program.{Program}
use Rattle.ada_program.specs.Form.{integer, nothing, item_of_value, allocates, DeclarationForm, creates_pool, collects, declares, StmtForm, assigns, frees, StmtsForm, no_stmts, a_stmt}
use Rattle.ada_program.specs.Typed.{pool_named}
use Rattle.ada_meaning.specs.declared.state.Value.TheVariants.{Names}
use Rattle.ada_meaning.specs.declared.event.Cause.TheVariants.{Leaving, Freeing}
use Rattle.ada_meaning.specs.Event.{Back, Left}
use Rattle.ada_meaning.specs.Run.{Event}
use Rattle.ada_sound.specs.Examples.{example_path}

-- type Cell is record Value : Integer; end record; First, Second : First_Fit_Pool (100);
-- type Link is access Cell with Storage_Pool => First; which has number 1; and Other, of number 2, with Storage_Pool => Second;
-- X : Link and Y : Other have numbers 0 and 1.
abbrev pub pool_declarations : List DeclarationForm
pool_declarations = creates_pool 0 ∷ creates_pool 1 ∷ collects 1 ∷ collects 2 ∷ declares 0 nothing ∷ declares 1 nothing ∷ []

-- The access types have a declared pool each.
abbrev pub HasTwoPools : Program → Type 0
HasTwoPools program = (pool_named program.types.items 1 ≡ Some 0) × (pool_named program.types.items 2 ≡ Some 1)

-- A variable gets a new object of its access type with this number.
abbrev pub new_cell : (x access n : ℕ) → StmtForm
new_cell x access n = assigns (example_path x []) (allocates access (item_of_value (integer (pos n)) ∷ []))

-- X := new Cell'(7); Y := new Cell'(8); Free_Link (X);
abbrev pub pooling_stmts : StmtsForm
pooling_stmts = a_stmt (new_cell 0 1 7) (a_stmt (new_cell 1 2 8) (a_stmt (frees 1 (example_path 0 [])) no_stmts))

-- What is freed goes back to the first pool, which has number 1 in the run, while the second one exists; and the other object goes with its collection, to
-- the second pool.
abbrev pub pooling_events : List Event
pooling_events =
    Back (Names (record { 0 = 0 })) 1 1 (Some 1) None (Freeing 1)
    ∷ Back (Names (record { 0 = 1 })) 2 2 (Some 2) None (Leaving 0 3)
    ∷ Left 0
    ∷ []

-- X := new Cell'(7); Free_Other (X); by the instance for the other access type, which no source says.
abbrev pub misplacing_stmts : StmtsForm
misplacing_stmts = a_stmt (new_cell 0 1 7) (a_stmt (frees 2 (example_path 0 [])) no_stmts)
