-- The law by what procedures do: where these follow and free no value of some access types, their bodies look at no object of them, and change none.

use Rattle.std.specs.Prelude.{◌≡◌, ℕ, ℤ, Bool, true, false, List}
use Rattle.ada_program.specs.declared.program.Program.{Program}
use Rattle.ada_program.specs.declared.program.TypeDefinition.{TypeDefinition}
use Rattle.ada_program.specs.ProgramForm.{ProgramForm, program_form, body_forms}
use Rattle.ada_program.specs.WellFormed.{IsWellFormed}
use Rattle.ada_deeds.specs.declared.deed.Callee.TheVariants.{Procedure}
use Rattle.ada_deeds.specs.declared.deed.Deed.TheVariants.{Follows}
use Rattle.ada_deeds.specs.Does.{Does}
use Rattle.ada_deeds.specs.Laws.{DoesFree}
use Rattle.ada_meaning.specs.declared.state.Id.{Id}
use Rattle.ada_meaning.specs.declared.state.Value.{Value}
use Rattle.ada_meaning.specs.Frame.{Frame}
use Rattle.ada_meaning.specs.Named.{State, next}
use Rattle.ada_meaning.specs.Run.{Event, Run, first_state}
use Rattle.ada_meaning.specs.State.{Master}
use Rattle.ada_untouched.specs.Untouched.{Untouched}
use Rattle.ada_reaching.specs.Apart.{Apart}
use Rattle.ada_reaching.specs.Law.{AreApart, IsWithin, GoesOn, AllGoOn, none_hidden}
use Rattle.ada_reaching.specs.Reaching.{IsReaching}

-- The bodies of these procedures shun no type, but are of the shape of those that do, and call these procedures alone: they assign to records with controlled
-- parts (7.6) as wholes of some types alone, whose finalization and adjustment call these procedures alone, create no collection and no
-- pool, and free objects of these access types alone, whose finalization calls these procedures alone. Objects with controlled parts they allocate of some
-- access types alone, and declare of some types alone, by default, whose initialization calls these procedures alone.
abbrev pub AreShaped : ProgramForm → List TypeDefinition → Apart → Type 0
AreShaped p definitions apart = AreApart p definitions (λ access. false) apart

-- A procedure follows values of an access type (4.1).
abbrev pub DoesFollow : ProgramForm → (procedure access : ℕ) → Type 0
DoesFollow p procedure t = Does p (Follows (record { 0 = t })) (Procedure (record { 0 = procedure }))

-- Of some access types these procedures follow no values (4.1), and free none (13.11.2), and neither does what they call.
pub record UseNone (p : ProgramForm) (shuns : ℕ → Bool) (apart : Apart) : Type 0 where
  pub follow_none : (procedure access : ℕ) → apart.calls procedure ≡ true → shuns access ≡ true → ¬ DoesFollow p procedure access
  pub free_none : (procedure access : ℕ) → apart.calls procedure ≡ true → shuns access ≡ true → ¬ DoesFree p procedure access

-- In every run of a well-formed program a step of bodies that call such procedures alone looks at no ghost, leaves each as it is, and leaves the bodies so.
abbrev pub UnusedObjectsAreUntouched : Type 0
UnusedObjectsAreUntouched =
    (program : Program) → IsWellFormed (program_form program) → (input : List ℤ) (events : List Event) (s : State)
    → Run program (first_state program input) events s → (shuns : ℕ → Bool) (apart : Apart)
    → AreShaped (program_form program) program.types.items apart
    → UseNone (program_form program) shuns apart → (ghosts unnamed : Id → Bool) (behind : List (Frame Value)) (lower : List Master)
    → IsReaching (program_form program) shuns apart ghosts unnamed behind lower s → IsWithin behind s
    → Untouched program.types.items none_hidden ghosts s
    × AllGoOn (GoesOn (program_form program) shuns apart ghosts unnamed behind lower s.heap) (next program.types.items (body_forms program) s)
