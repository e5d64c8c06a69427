-- Laws of bodies that call themselves.

use Rattle.std.specs.Prelude.{◌≡◌, ℕ, List, [], ◌∷◌, Option, Some, None}
use Rattle.std.specs.List.{slice_get}
use Rattle.ada_text.specs.declared.spot.Spot.{Spot}
use Rattle.ada_deeds.specs.Rounds.{CallsOne}
use Rattle.ada_deeds.specs.declared.deed.Callee.{Callee}
use Rattle.ada_deeds.specs.declared.deed.Callee.TheVariants as callee
use Rattle.ada_program.specs.declared.program.ProcedureNo.{ProcedureNo}
use Rattle.ada_program.specs.ProgramForm.{ProgramForm}
use Rattle.ada_rounds.specs.FirstRound.{InitializesOrAdjusts, IsFirstRound}

-- A program has a first body that may not call itself and does, or none: not two of these.
abbrev pub OneIsFirst : Type 0
OneIsFirst = (p : ProgramForm) (a b : Option Spot) → IsFirstRound p a → IsFirstRound p b → a ≡ b

-- Each of these callees calls the next one (6.4, 7.6).
pub data IsChain (p : ProgramForm) : List Callee → Type 0 where
  empty : IsChain p []
  last : {c : Callee} → IsChain p (c ∷ [])
  calling : {c other : Callee} {cs : List Callee} → CallsOne p c other → IsChain p (other ∷ cs) → IsChain p (c ∷ other ∷ cs)

-- Where there is no such body, what overrides Initialize or Adjust stands once in a chain at most.
abbrev pub EachStandsOnce : Type 0
EachStandsOnce = (p : ProgramForm) → IsFirstRound p None → (cs : List Callee) → IsChain p cs → (procedure : ProcedureNo) → InitializesOrAdjusts p procedure →
    (i j : ℕ) → slice_get cs i ≡ Some (callee.Procedure procedure) → slice_get cs j ≡ Some (callee.Procedure procedure) → i ≡ j
