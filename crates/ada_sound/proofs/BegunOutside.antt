-- An object whose initialization is under way is owned outside of the bodies that run inside (7.6, 4.8, 3.3.1): a variable of the activation that waits for the
-- Initialize owns it, or it is held, as if a variable owned it, until a variable or a component gets its name.

use Rattle.std.proofs.Common.{◌≡◌, ℕ, zero, Bool, true, false, List, ◌∷◌, ◌++◌, ◌⊎◌, refl, subst, inl, inr, []}
use Rattle.std.specs.Prelude.{Option, Some, None}
use Rattle.ada_flow.specs.Flow.{Holds, hold_at}
use Rattle.ada_meaning.specs.declared.event.Birth.TheVariants.{Creation}
use Rattle.ada_meaning.specs.declared.state.Id.{Id}
use Rattle.ada_meaning.specs.declared.state.Value.{Value}
use Rattle.ada_meaning.specs.declared.state.Value.TheVariants.{Names}
use Rattle.ada_meaning.specs.Frame.{Treatment, begins}
use Rattle.ada_meaning.specs.Heap.{Home}
use Rattle.ada_meaning.specs.Named.{State}
use Rattle.ada_meaning.specs.State.{Master}
use Rattle.ada_owners.specs.Reliance.{Owns}
use Rattle.ada_parts.specs.Part as parts
use Rattle.ada_program.specs.declared.program.Program.{Program}
use Rattle.ada_program.specs.ProgramForm.{VariableForm}
use Rattle.ada_sound.proofs.Callers.{Suspension, caller_of, callers_of, known_in}
use Rattle.ada_sound.proofs.Fits.{IsOwnedAmong, Outer, Reference, owned_deeper, owned_here, place_at}
use Rattle.ada_sound.proofs.Held.{holder_if}
use Rattle.ada_sound.proofs.Invariant.{Control, Known, Rooms, held_first, outer_in, outer_of}
use Rattle.ada_sound.proofs.Touching.{Pause, Rests, Watch, origin}

-- Something is held in front of some activations: what a variable of these owns is owned still.
pub owned_held : (held : Option Outer) (others : List Outer) (o : Id) → IsOwnedAmong others o → IsOwnedAmong (held_first held others) o
owned_held None others o owned = owned
owned_held (Some w) others o owned = owned_deeper w others o owned

-- What is held is owned.
held_owned : (held : Bool) (o : Id) (access : ℕ) (others : List Outer) → held ≡ true → IsOwnedAmong (held_first (holder_if held o access) others) o
held_owned false o access others is = absurd (cc is)
held_owned true o access others is = (zero, zero, tt, refl)

-- So an activation owns the object that waits for the Initialize of it, with what is held for that.
pub begun_owned :
    (known : Known) (done : List parts.Part) (held : Bool) (watch : Option Watch) (object : Id) (access : ℕ) (home : Home) (places operands : List Value)
    (also : List Reference) (after : Control) (lower : List Master) (rooms : Rooms) (holds : Holds) (variables : List VariableForm) (others : List Outer)
    → Rests known (begins Creation done) held watch object access home places operands also after lower rooms holds
    → IsOwnedAmong (record { variables = variables; places = places; holds = holds } ∷ held_first (holder_if held object access) others) object
begun_owned known done held watch object access home places operands also after lower rooms holds variables others (inl (none, starting)) =
    owned_by starting.owner
  where
    waiting : Outer
    waiting = record { variables = variables; places = places; holds = holds }

    owned_by : (held ≡ true) ⊎ (Owns (hold_at holds starting.x) × (place_at places starting.x ≡ Names object))
        → IsOwnedAmong (waiting ∷ held_first (holder_if held object access) others) object
    owned_by (inl is) = owned_deeper waiting (held_first (holder_if held object access) others) object (held_owned held object access others is)
    owned_by (inr owner) = owned_here waiting (held_first (holder_if held object access) others) starting.x object owner.0 owner.1
begun_owned known done held watch object access home places operands also after lower rooms holds variables others (inr naming) =
    owned_deeper (record { variables = variables; places = places; holds = holds }) (held_first (holder_if held object access) others) object
    (held_owned held object access others naming.is_held)

module _ (program : Program) where
  -- One more activation waits in front of some: what a variable of these owns is owned still.
  pub owned_behind : (g : Suspension) (others : List Suspension) (o : Id) → IsOwnedAmong (outer_in (callers_of program others)) o
      → IsOwnedAmong (outer_in (callers_of program (g ∷ others))) o
  owned_behind g others o owned =
      owned_deeper (outer_of (caller_of program g others)) (held_first g.held (outer_in (callers_of program others))) o
      (owned_held g.held (outer_in (callers_of program others)) o owned)

  -- So it is with more of them.
  pub owned_further : (inner others : List Suspension) (o : Id) → IsOwnedAmong (outer_in (callers_of program others)) o
      → IsOwnedAmong (outer_in (callers_of program (inner ++ others))) o
  owned_further [] others o owned = owned
  owned_further (g ∷ inner) others o owned = owned_behind g (inner ++ others) o (owned_further inner others o owned)

  -- The object that is initialized is owned outside of the body that runs, in front of whatever waits.
  pub begun_outside : (depth : ℕ) (s : State) (f : Pause program depth s) (done : List parts.Part) → f.treatment ≡ begins Creation done → (others : List Suspension)
      → IsOwnedAmong (outer_in (callers_of program (origin program depth s f ∷ others))) f.object
  begun_outside depth s f done is others =
      let known = known_in program f.procedure f.suspensions in
      begun_owned known done f.held f.watch f.object f.access f.home f.places f.operands f.also f.after f.lower f.rooms f.holds known.program.variables
      (outer_in (callers_of program others))
      (subst (λ (treatment : Treatment). Rests known treatment f.held f.watch f.object f.access f.home f.places f.operands f.also f.after f.lower f.rooms f.holds) is f.rests)
