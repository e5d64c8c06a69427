-- Where bodies begin that shun some access types, in a call (6.4) or as an operation of what is freed (7.6): what was there waits.

use Rattle.std.proofs.Common.{◌≡◌, ℕ, Bool, true, List, [], ◌∷◌, Option, Some, refl, sym, ap, inr, subst, ◌⊎◌}
use Rattle.std.specs.List.{slice_get}
use Rattle.ada_program.specs.Form.{ActualForm}
use Rattle.ada_program.specs.ProgramForm.{BodyForm, ProgramForm, seen_in}
use Rattle.ada_meaning.specs.declared.state.Id.{Id}
use Rattle.ada_meaning.specs.declared.state.Value.{Value}
use Rattle.ada_meaning.specs.Frame.{Frame}
use Rattle.ada_meaning.specs.Frame as frame
use Rattle.ada_meaning.specs.State.{Activation, Master}
use Rattle.ada_meaning.specs.Step.{procedure_of, older, entered, given_places}
use Rattle.ada_meaning.specs.Named.{State, named}
use Rattle.ada_typed.proofs.Bodies.{seen_as}
use Rattle.ada_reaching.specs.Apart.{Apart}
use Rattle.ada_reaching.specs.Forms.{body_shuns}
use Rattle.ada_reaching.specs.Reaching.{AreElsewhere, FrameShuns, LeftShuns, begins_anew, WaitsToCopy}
use Rattle.ada_reaching.proofs.Elsewhere.{given_places_elsewhere}
use Rattle.ada_reaching.proofs.Going.{World, IsRun, Left, On, stays}

-- All of a body shuns the types, read with its own variables.
pub elaborates_shuns :
    (p : ProgramForm) (shuns : ℕ → Bool) (apart : Apart) (ghosts : Id → Bool) (procedure : ℕ) (b : BodyForm) → slice_get p.bodies procedure ≡ Some b
    → body_shuns p.types shuns apart b ≡ true
    → FrameShuns p.types shuns apart p.bodies ghosts (seen_in (Some procedure) p).variables (frame.Elaborates b.declarations b.statements b.handlers)
elaborates_shuns p shuns apart ghosts procedure b is shun =
    subst (λ (own : ProgramForm). FrameShuns p.types shuns apart p.bodies ghosts own.variables (frame.Elaborates b.declarations b.statements b.handlers))
    (sym (seen_as p procedure b is)) shun

-- The body of a procedure begins with these values for its parameters, in front of what is left to do behind it, and with these activations waiting.
abbrev pub beginning :
    (procedure : ℕ) → BodyForm → (given : List Value) → List ActualForm
    → (references : List Value) → List (Frame Value) → List (Activation Value) → State → State
beginning procedure b given actuals references k acts s = entered (record s {
  activations = record { procedure = Some procedure; places = given_places named given b.variables; operands = [] } ∷ acts;
  control = frame.Elaborates b.declarations b.statements b.handlers ∷ frame.Returns actuals references ∷ k;
})

module _ (w : World) where
  -- The bodies go on so, where the body shuns the types, and what is given and gets something back refers to no ghost.
  pub beginning_goes :
      (procedure : ℕ) (b : BodyForm) (given : List Value) (actuals : List ActualForm) (references : List Value) (k : List (Frame Value))
      (acts : List (Activation Value)) (s : State) → slice_get w.p.bodies procedure ≡ Some b → body_shuns w.p.types w.shuns w.apart b ≡ true
      → AreElsewhere w.ghosts w.unnamed given → AreElsewhere w.ghosts w.unnamed references → IsRun w acts s.masters s.heap → Left w k
      → (begins_anew k ≡ true) ⊎ WaitsToCopy w.ghosts (frame.Returns actuals references) k acts
      → On w (beginning procedure b given actuals references k acts s)
  beginning_goes procedure b given actuals references k acts s is shun others referring r h anew =
      let entered : Master = record { number = s.next; items = [] } in
      let inner : World = record w { procedure = Some procedure; upper = entered ∷ w.upper; suspended = acts } in
      let left : LeftShuns w.p w.shuns w.apart w.ghosts w.unnamed w.behind w.lower (procedure_of acts) k w.upper (older acts) =
      subst (λ (suspended : List (Activation Value)). LeftShuns w.p w.shuns w.apart w.ghosts w.unnamed w.behind w.lower (procedure_of acts) k w.upper suspended)
      (sym r.waits)
      (subst (λ (number : Option ℕ). LeftShuns w.p w.shuns w.apart w.ghosts w.unnamed w.behind w.lower number k w.upper w.suspended) (sym r.runs) h) in
      stays inner (beginning procedure b given actuals references k acts s) (record {
        runs = refl;
        waits = refl;
        owns = ap (λ (own : List Master). entered ∷ own) r.owns;
        places = given_places_elsewhere w.ghosts w.unnamed given b.variables others;
        operands = tt;
        same = r.same;
      }) (
        elaborates_shuns w.p w.shuns w.apart w.ghosts procedure b is shun,
        refl,
        (tt, inr (record { references = referring; places = r.places; operands = r.operands; anew = anew; others = left })),
      ) refl
