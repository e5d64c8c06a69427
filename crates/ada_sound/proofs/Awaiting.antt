-- What waits for the name of a new object while that is initialized does so still, where objects that are there stay there (4.8, 7.6).

use Rattle.std.proofs.Common.{◌≡◌, ℕ, List, [], ◌∷◌}
use Rattle.std.specs.Prelude.{Some}
use Rattle.ada_flow.specs.Flow.{Holds}
use Rattle.ada_meaning.specs.declared.state.Id.{Id}
use Rattle.ada_meaning.specs.declared.state.Value.{Value}
use Rattle.ada_meaning.specs.declared.state.Value.TheVariants.{Null, Names, Scalar, Part}
use Rattle.ada_meaning.specs.Frame.{Stores, Declares, StoresIn}
use Rattle.ada_meaning.specs.Named.{Object}
use Rattle.ada_owners.specs.Places.{access_at}
use Rattle.ada_sound.proofs.Invariant.{AwaitsIn, Control, GoesTo, Known, Rooms}

-- What is said of a component that waits may be said in other words.
pub goes_along :
    (known : Known) (first second : Value → (c : ℕ) → Type 0) → ((v : Value) (c : ℕ) → first v c → second v c) → (access : ℕ) (k : Control) (rooms : Rooms) (holds : Holds)
    → GoesTo known first access k rooms holds → GoesTo known second access k rooms holds
goes_along known first second map access [] rooms holds to = absurd to
goes_along known first second map access (Stores x ∷ k) rooms holds to = to
goes_along known first second map access (Declares x ∷ k) rooms holds to = to
goes_along known first second map access (StoresIn v c ∷ k) rooms holds to = (map v c to.0, to.1)
goes_along known first second map access (f ∷ k) rooms holds to = absurd to

-- An object that waits is there still.
pub awaits_along :
    (known : Known) (heap after : List Object) → ((p : Id) (t : ℕ) → access_at heap p ≡ Some t → access_at after p ≡ Some t) → (access : ℕ) (v : Value) (c : ℕ)
    → AwaitsIn known heap access v c → AwaitsIn known after access v c
awaits_along known heap after stays access Null c awaits = absurd awaits
awaits_along known heap after stays access (Names o) c (t, there, may) = (t, stays o t there, may)
awaits_along known heap after stays access (Scalar n) c awaits = absurd awaits
awaits_along known heap after stays access (Part o place) c awaits = absurd awaits
