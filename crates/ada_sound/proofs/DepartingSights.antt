-- While an operation runs for a member of a collection that goes (7.6.1), flow speaks of the state that stands for the real one.

use Rattle.std.proofs.Common.{◌≡◌, ℕ, suc, Bool, true, false, List, [], ◌∷◌, refl, sym, subst, ◌⊎◌, inl, inr, arith}
use Rattle.std.specs.Prelude.{Option, Contains}
use Rattle.ada_parts.specs.Task.{Task}
use Rattle.ada_program.specs.declared.program.Program.{Program}
use Rattle.ada_program.specs.ProgramForm.{ProgramForm}
use Rattle.ada_meaning.specs.declared.event.Cause.TheVariants.{Leaving}
use Rattle.ada_meaning.specs.declared.state.Id.{Id}
use Rattle.ada_meaning.specs.declared.state.Value.{Value}
use Rattle.ada_meaning.specs.declared.state.Value.TheVariants.{Names}
use Rattle.ada_meaning.specs.Frame as frame
use Rattle.ada_meaning.specs.Frame.{Frame, Treatment, ends}
use Rattle.ada_meaning.specs.Named.{State, object_at}
use Rattle.ada_meaning.specs.State.{Activation, Master}
use Rattle.ada_meaning.specs.Step.{older, procedure_of, treating}
use Rattle.ada_reaching.specs.Apart.{Apart}
use Rattle.ada_reaching.specs.Reaching.{LeftShuns, none_unnamed}
use Rattle.ada_sound.proofs.Departing.{Seen, Within, ending}
use Rattle.ada_sound.proofs.DepartingBehind.{left_behind}
use Rattle.ada_sound.proofs.Invariant.{Control}
use Rattle.ada_sound.proofs.SeenStates.{seen_at}
use Rattle.ada_sound.specs.StandsFor.{HasDeparted, IsBeingLeft, StandsFor}

-- What is among some things is among more.
contains_later : {X : Type 0} (y x : X) (xs : List X) → Contains xs x → Contains (y ∷ xs) x
contains_later y x xs found = let less = found.1 in (suc found.0, omega (arith, less), found.2)

-- What is behind some bodies is left to do.
module _ (p : ProgramForm) (shuns : ℕ → Bool) (apart : Apart) (ghosts : Id → Bool) (behind : Control) (lower : List Master) (f : Frame Value) (there : Contains behind f) where
  left_contains : (procedure : Option ℕ) (k : Control) (own : List Master) (suspended : List (Activation Value))
      → LeftShuns p shuns apart ghosts none_unnamed behind lower procedure k own suspended → Contains k f
  left_contains procedure [] own suspended left = absurd left
  left_contains procedure (frame.Returns actuals references ∷ k) own suspended (inl last) =
      subst (λ (j : Control). Contains j f) (sym last.0) (contains_later (frame.Returns [] []) f behind there)
  left_contains procedure (frame.Returns actuals references ∷ k) own suspended (inr inner) =
      contains_later (frame.Returns actuals references) f k (left_contains (procedure_of suspended) k own (older suspended) inner.others)
  left_contains procedure (g ∷ k) own suspended left =
      let further = left_behind p shuns apart ghosts behind lower procedure g k own suspended refl left in
      contains_later g f k (left_contains procedure k further.0 suspended further.1)

-- So is what is behind a treatment.
treating_contains : (v : Value) (treatment : Treatment) (tasks : List Task) (k : List (Frame Value)) (f : Frame Value) → Contains k f → Contains (treating v treatment tasks k) f
treating_contains v treatment [] k f found = found
treating_contains v treatment (task ∷ tasks) k f found = contains_later (frame.Treats v treatment (task ∷ tasks)) f k found

module _ (program : Program) (s : State) (d : Within program s) where
  member_goes : Contains s.control (frame.GivesBack (Names d.object) (Leaving d.master d.item) d.pool)
  member_goes =
      left_contains _ _ d.apart d.ghosts d.behind d.lower (frame.GivesBack (Names d.object) (Leaving d.master d.item) d.pool)
      (subst (λ (k : List (Frame Value)). Contains k (frame.GivesBack (Names d.object) (Leaving d.master d.item) d.pool)) (sym d.is)
      (contains_later frame.Confines _ _
      (treating_contains (Names d.object) (ends (Leaving d.master d.item)) d.tasks (ending d.object d.master d.item d.pool d.mode d.k) _ (1, omega arith, refl))))
      _ s.control _ _ d.reaching.control

  pub is_being_left : IsBeingLeft s d.access d.item
  is_being_left = record {
    member = d.object;
    object = d.member.0;
    there = d.member.1;
    of_access = d.member.2;
    at_home = d.member.3;
    master = d.master;
    pool = d.pool;
    going = member_goes;
  }

-- Each object is as it is in the real state, or it is a ghost.
pub stands_for : {types : List ℕ} {item : ℕ} {ghosts : Id → Bool} {s v : State} → Seen types item ghosts s v → StandsFor s v item
stands_for {types} {item} {ghosts} {s} {v} seen = record { rest = seen.alike.rest; objects = λ o. by o (ghosts o) refl }
  where
    by : (o : Id) (b : Bool) → ghosts o ≡ b → (object_at v.heap o ≡ object_at s.heap o) ⊎ HasDeparted item (object_at s.heap o) (object_at v.heap o)
    by o false is = inl (seen_at seen o is)
    by o true is =
        let d = seen.departed o is in
        inr (record { object = d.object; there = d.there; gone = d.gone; back = d.back; newer = d.newer; is = d.is })
