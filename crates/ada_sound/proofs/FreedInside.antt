-- What is freed next (13.11.2): a variable of the running activation owns it, or a component does. So no variable of a suspended activation does.

use Rattle.std.proofs.Common.{◌≡◌, ℕ, List, [], ◌∷◌, refl, inl, inr}
use Rattle.std.specs.Prelude.{Option, Some, None, false}
use Rattle.std.specs.List.{slice_get}
use Rattle.ada_text.specs.declared.spot.Spot.{Spot}
use Rattle.ada_effects.specs.Effects.{Implicit}
use Rattle.ada_flow.specs.declared.rule.Hold.{Hold}
use Rattle.ada_flow.specs.declared.rule.Hold.TheVariants as hold
use Rattle.ada_flow.specs.declared.rule.Rule.{Rule}
use Rattle.ada_flow.specs.Flow.{Holds, faults, finalizes, frees_seen, hold_at, released}
use Rattle.ada_flow.specs.Tracking.{no_tracks}
use Rattle.ada_meaning.specs.declared.state.Id.{Id}
use Rattle.ada_meaning.specs.declared.state.Mode.TheVariants.{Running}
use Rattle.ada_meaning.specs.declared.state.Value.{Value}
use Rattle.ada_meaning.specs.declared.state.Value.TheVariants.{Names, Null}
use Rattle.ada_meaning.specs.Frame.{Does, FreesIn}
use Rattle.ada_meaning.specs.Named.{Object, object_at}
use Rattle.ada_meaning.specs.State.{Master}
use Rattle.ada_meaning.specs.Step.{first_or}
use Rattle.ada_owners.specs.Keeping.{IsThere}
use Rattle.ada_program.specs.Form.{PathForm, StmtsForm, a_stmt, frees}
use Rattle.ada_program.specs.ProgramForm.{TypeForm, VariableForm}
use Rattle.ada_program.specs.WellFormed.{path_access}
use Rattle.ada_sound.proofs.Fits.{IsOwn, IsOwnedOutside, IsSaid, MayFollow, component_inside, place_at, variable_inside}
use Rattle.ada_sound.proofs.Invariant.{Control, Goes, HalfBy, Known, ReadyIn, Releasing, RunsOn, Working, outers, ways}
use Rattle.ada_sound.proofs.Nestings.{starts}

-- An object is freed next: a variable names it, or a component of an object that was found does.
abbrev pub IsFreedNext : List Object → (places operands : List Value) → Control → Id → Type 0
IsFreedNext heap places operands [] o = ⊥
IsFreedNext heap places operands (Does (a_stmt (frees access path) fs) ∷ k) o = (path.selectors ≡ []) × (place_at places path.root ≡ Names o)
IsFreedNext heap places operands (FreesIn access c ∷ k) o =
    (p : Id) × (holder : Object) × (first_or Null operands ≡ Names p) × (object_at heap p ≡ Some holder) × (slice_get holder.cell.values c ≡ Some (Names o))
IsFreedNext heap places operands (f ∷ k) o = ⊥

-- What breaks a rule does so, whatever its finalization may free.
never_breaks :
    (variables : List VariableForm) (implicit : Implicit) (access : Option ℕ) (spot : Spot) (rule : Rule) (more raised : Holds → Type 0)
    → Goes (finalizes variables implicit access (faults spot rule)) more raised → ⊥
never_breaks variables implicit None spot rule more raised g = g
never_breaks variables implicit (Some t) spot rule more raised g = g

-- A variable that is freed, and names an object, owns that.
module _
    (types : List TypeForm) (variables : List VariableForm) (implicit : Implicit) (access : Option ℕ) (path : PathForm) (holds : Holds) (given v : Value) (o : Id)
    (names : v ≡ Names o) (more raised : Holds → Type 0) where
  released_owns : (h : Hold) → Goes (finalizes variables implicit access (released variables path.root path.spot holds h)) more raised → IsSaid given h v → IsOwn h
  released_owns hold.Null g said = absurd (cc (said, names))
  released_owns (hold.Kept r) g said = tt
  released_owns (hold.Own r) g said = tt
  released_owns (hold.Alias r) g said = absurd (never_breaks variables implicit access path.spot _ more raised g)
  released_owns hold.Lost g said = absurd (never_breaks variables implicit access path.spot _ more raised g)

  freed_owns : (cs : List ℕ) → cs ≡ [] → Goes (finalizes variables implicit access (frees_seen types variables no_tracks false implicit cs path holds)) more raised
      → IsSaid given (hold_at holds path.root) v → IsOwn (hold_at holds path.root)
  freed_owns [] alone g said = released_owns (hold_at holds path.root) g said
  freed_owns (c ∷ cs) alone g said = absurd (cc alone)

module _ (known : Known) (heap : List Object) (places operands : List Value) (masters : List Master) (o : Id) where
  variable_freed : (access : ℕ) (path : PathForm) (fs : StmtsForm) (k : Control) → path.selectors ≡ [] → place_at places path.root ≡ Names o
      → Working known heap places masters (RunsOn known (Does (a_stmt (frees access path) fs) ∷ k)) → IsOwnedOutside (outers known) o → ⊥
  variable_freed access path fs k alone names w outside =
      let types = known.program.types in
      let variables = known.program.variables in
      let begun = starts known (frees access path) fs k (ways known k w.rooms) w.holds w.rest in
      let own : IsOwn (hold_at w.holds path.root) =
      freed_owns types variables known.implicit (path_access types variables path) path w.holds (place_at (outers known).given path.root) (place_at places path.root)
      o names _ _ path.selectors alone begun.1 (w.fit.said path.root) in
      variable_inside path.root o own names w.fit outside

  -- A take pair is no Free.
  half_frees : (access : ℕ) (path : PathForm) (fs : StmtsForm) (k : Control) → HalfBy known (Does (a_stmt (frees access path) fs) ∷ k) heap places masters → ⊥
  half_frees access path fs k h = let is = h.is in cc is

  component_freed :
      (access c : ℕ) (k : Control) (p : Id) (holder : Object) (v : Value) → v ≡ Names p → object_at heap p ≡ Some holder
      → slice_get holder.cell.values c ≡ Some (Names o)
      → Working known heap places masters (λ rooms holds. MayFollow heap v × Releasing known heap v [] access c k rooms holds) → IsOwnedOutside (outers known) o → ⊥
  component_freed access c k p holder v is found at w outside =
      let there : IsThere heap p = rw is at (w.rest.0) in
      let one : there.0 ≡ holder = let f = there.1 in cc (f, found) in
      component_inside p holder c o refl found (rw one at (there.2)) at w.fit outside

  -- What is freed next is not owned outside.
  pub freed_inside :
      (k : Control) → ReadyIn known Running k heap places operands masters → IsFreedNext heap places operands k o → IsOwnedOutside (outers known) o → ⊥
  freed_inside [] r next outside = next
  freed_inside (Does (a_stmt (frees access path) fs) ∷ k) (inl w) next outside = variable_freed access path fs k next.0 next.1 w outside
  freed_inside (Does (a_stmt (frees access path) fs) ∷ k) (inr half) next outside = half_frees access path fs k half
  freed_inside (FreesIn access c ∷ k) r next outside =
      component_freed access c k next.0 next.1 (first_or Null operands) next.2 next.3 next.4 r outside
  freed_inside (f ∷ k) r next outside = next
