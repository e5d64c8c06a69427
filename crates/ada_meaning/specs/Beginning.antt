-- Where a statement begins: what runners count, and what the rules of flow speak of.

use Rattle.std.specs.Prelude.{◌≡◌, ◌↔◌, true, List, ◌∷◌}
use Rattle.ada_program.specs.Form.{StmtForm, StmtsForm, a_stmt}
use Rattle.ada_meaning.specs.declared.state.Value.{Value}
use Rattle.ada_meaning.specs.declared.state.Mode.TheVariants.{Running}
use Rattle.ada_meaning.specs.Frame.{Frame}
use Rattle.ada_meaning.specs.Frame as frame
use Rattle.ada_meaning.specs.State.{begins}
use Rattle.ada_meaning.specs.Named.{State}

-- The next step begins a statement (5.1): no jump is on its way, and this one is first of what is left to do.
pub record BeginsStatement (s : State) : Type 0 where
  pub stmt : StmtForm
  pub later : StmtsForm
  pub outer : List (Frame Value)
  pub runs : s.mode ≡ Running
  pub first : s.control ≡ frame.Does (a_stmt stmt later) ∷ outer

-- `begins` says exactly that.
abbrev pub StatementsBegin : Type 0
StatementsBegin = (s : State) → (begins s ≡ true) ↔ BeginsStatement s
