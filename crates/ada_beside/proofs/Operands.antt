-- Which operands are confined: only where a component is about to be assigned or read to is anything asked of them, and what is found for that leads to another
-- object, or to a component that the body may reach.

use Rattle.std.proofs.Common.{◌≡◌, ℕ, zero, suc, ◌+◌, Bool, true, false, List, [], ◌∷◌, ap, inl, inr}
use Rattle.std.specs.List.{slice_index_or}
use Rattle.ada_program.specs.Form.{RightForm}
use Rattle.ada_meaning.specs.declared.state.Id.{Id}
use Rattle.ada_meaning.specs.declared.state.Mode.{Mode}
use Rattle.ada_meaning.specs.declared.state.Mode.TheVariants.{Running}
use Rattle.ada_meaning.specs.declared.state.Value.{Value}
use Rattle.ada_meaning.specs.declared.state.Value.TheVariants.{Null, Names, Scalar, Part}
use Rattle.ada_meaning.specs.Frame.{Frame}
use Rattle.ada_meaning.specs.Frame as frame
use Rattle.ada_meaning.specs.State.{Activation}
use Rattle.ada_meaning.specs.Step.{first_or, before_last, operands_of, with_operands}
use Rattle.ada_meaning.specs.Named.{Object, whole, inside}
use Rattle.ada_tracked.specs.Frames.{View}
use Rattle.ada_tracked.specs.Looking.{LandsElsewhere, StartsElsewhere, HoldsElsewhere, HolderIsElsewhere}
use Rattle.ada_tracked.specs.Seen.{IsOther, awaits_holder, FormalIsFirst}
use Rattle.ada_beside.specs.Confined.{IsConfinedFrom, StoresReached, OperandsAreConfined}

-- What holds of no operands and of these holds of the operands once they are these.
pub set_so : (P : List Value → Type 0) (vs : List Value) (activations : List (Activation Value)) → P [] → P vs → P (operands_of (with_operands vs activations))
set_so P vs [] none these = none
set_so P vs (a ∷ suspended) none these = these

-- Where nothing waits for an object, whatever a component holds may be found.
pub holds_any : (o : Id) (heap : List Object) (v : Value) (c : ℕ) (cs : List ℕ) → HoldsElsewhere o heap false v c cs
holds_any o heap v c [] = λ cell u sought is. tt
holds_any o heap v c (d ∷ cs) = tt

-- A path that leads to an object other than this one, or to a component of the formal parameter, begins with a variable that names another one, or with that.
pub holder_starts :
    (o : Id) (heap : List Object) (x : ℕ) (cs : List ℕ) (v : Value) → HolderIsElsewhere o heap x cs v → StartsElsewhere o x cs v
holder_starts o heap x [] v elsewhere = tt
holder_starts o heap zero (c ∷ cs) v elsewhere = tt
holder_starts o heap (suc x) (c ∷ []) v elsewhere = elsewhere
holder_starts o heap (suc x) (c ∷ d ∷ cs) v elsewhere = elsewhere.0

-- Behind its first component such a path leads to another object.
pub holder_holds :
    (o : Id) (heap : List Object) (x c d : ℕ) (cs : List ℕ) (v : Value) → HolderIsElsewhere o heap x (c ∷ d ∷ cs) v
    → HoldsElsewhere o heap true (whole v) (inside v c) (before_last d cs)
holder_holds o heap zero c d cs v elsewhere = elsewhere
holder_holds o heap (suc x) c d cs v elsewhere = elsewhere.1

module _ (w : View) (reaches : ℕ → Bool) where
  -- Where nothing waits for an object, nothing is asked of operands.
  pub unawaited : (m : Mode) (k : List (Frame Value)) (vs : List Value) → awaits_holder k ≡ false → OperandsAreConfined w reaches m k vs
  unawaited Running (frame.Targets c right ∷ k) vs none = absurd (cc)
  unawaited Running (frame.Receives c ∷ k) vs none = absurd (cc)
  unawaited Running (frame.FreesIn access c ∷ k) vs none = absurd (cc)
  unawaited m k vs none = tt

  -- Operands of which the newest one leads to another object are confined, whatever comes next.
  pub other_confined : (m : Mode) (k : List (Frame Value)) (vs : List Value) → IsOther w.object (first_or Null vs) → OperandsAreConfined w reaches m k vs
  other_confined Running (frame.Targets c right ∷ k) vs other = inl other
  other_confined Running (frame.Receives c ∷ k) vs other = inl other
  other_confined Running (frame.FreesIn access c ∷ k) vs other = inl other
  other_confined m k vs other = tt

  -- Operands are confined of which the newest one has been found for what waits behind.
  pub landed_confined :
      (awaits : Bool) (m : Mode) (k : List (Frame Value)) (v : Value) (vs : List Value) → awaits_holder k ≡ awaits → LandsElsewhere w.object awaits v
      → OperandsAreConfined w reaches m k (v ∷ vs)
  landed_confined false m k v vs waits lands = unawaited m k (v ∷ vs) waits
  landed_confined true m k v vs waits lands = other_confined m k (v ∷ vs) lands

  -- Where a component is about to be assigned, operands are confined whose newest one leads to another object, or that component may be reached.
  pub target_confined :
      (c : ℕ) (right : RightForm) (k : List (Frame Value)) (m : Mode) (vs : List Value) → StoresReached w reaches (first_or Null vs) c
      → OperandsAreConfined w reaches m (frame.Targets c right ∷ k) vs
  target_confined c right k Running vs reached = reached
  target_confined c right k m vs reached = tt

  -- So it is where a component is about to be read to.
  pub receiver_confined :
      (c : ℕ) (k : List (Frame Value)) (m : Mode) (vs : List Value) → StoresReached w reaches (first_or Null vs) c
      → OperandsAreConfined w reaches m (frame.Receives c ∷ k) vs
  receiver_confined c k Running vs reached = reached
  receiver_confined c k m vs reached = tt

  -- So it is where what a component holds is about to be freed.
  pub freer_confined :
      (access c : ℕ) (k : List (Frame Value)) (m : Mode) (vs : List Value) → StoresReached w reaches (first_or Null vs) c
      → OperandsAreConfined w reaches m (frame.FreesIn access c ∷ k) vs
  freer_confined access c k Running vs reached = reached
  freer_confined access c k m vs reached = tt

  -- A path reads a component of another object first, or one of the formal parameter that the body may reach.
  pub start_reached :
      (places : List Value) (x c : ℕ) (cs : List ℕ) → FormalIsFirst w places → IsConfinedFrom w.tracks.first reaches x (c ∷ cs)
      → StartsElsewhere w.object x (c ∷ cs) (slice_index_or places x Null)
      → StoresReached w reaches (whole (slice_index_or places x Null)) (inside (slice_index_or places x Null) c)
  start_reached [] x c cs formal from starts = absurd formal
  start_reached (Null ∷ vs) zero c cs formal from starts = absurd formal
  start_reached (Names o ∷ vs) zero c cs formal from starts = absurd formal
  start_reached (Scalar a ∷ vs) zero c cs formal from starts = absurd formal
  start_reached (Part o place ∷ vs) zero c cs formal from starts = inr (ap Names formal.0, (c, ap (λ (n : ℕ). n + c) formal.1, from.1))
  start_reached (v ∷ vs) (suc x) c cs formal from starts = inl starts
