-- What a writer holds after a text was written, or after a failure.

use Rattle.std.specs.Prelude.{◌≡◌, ◌⊎◌, ℕ, List, [], ◌++◌, Option, Result, Ok, Err}
use Rattle.std.specs.Io.KnownBytes.{Appends}
use Rattle.ada_serve.specs.declared.serve.ServeFault.{ServeFault}
use Rattle.ada_serve.specs.declared.serve.Status.{Status}

-- The bytes that a writer holds, where they are known, grew by some front of a text.
pub record AppendsFront (old new : Option (List ℕ)) (text : List ℕ) : Type 0 where
  pub front : List ℕ
  pub rest : List ℕ
  pub split : text ≡ front ++ rest
  pub written : Appends old new front

-- A text was written; at a fault, a front of it.
abbrev pub Writes : {X : Type 0} → Option (List ℕ) → Option (List ℕ) → List ℕ
    → Result X ServeFault → Type 0
Writes old new text (Ok x) = Appends old new text
Writes old new text (Err fault) = AppendsFront old new text

-- An answer of this kind was written, with this status.
pub record Says (IsIt : List ℕ → Status → Type 0) (old new : Option (List ℕ)) (status : Status) : Type 0 where
  pub text : List ℕ
  pub is : IsIt text status
  pub written : Appends old new text

-- A front of an answer of this kind was written.
pub record Begins (IsIt : List ℕ → Status → Type 0) (old new : Option (List ℕ)) : Type 0 where
  pub text : List ℕ
  pub status : Status
  pub is : IsIt text status
  pub written : AppendsFront old new text

-- An answer of this kind was written; at a fault, nothing, or a front of such an answer.
abbrev pub SaysFront : (List ℕ → Status → Type 0) → Option (List ℕ) → Option (List ℕ)
    → Result Status ServeFault → Type 0
SaysFront IsIt old new (Ok status) = Says IsIt old new status
SaysFront IsIt old new (Err fault) = Appends old new [] ⊎ Begins IsIt old new
