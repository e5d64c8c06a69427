-- Choices that follow a list of answers.

use Rattle.std.specs.Prelude.{ℕ, nat_lt, Bool, true, false, cond, List, [], ◌∷◌}
use Rattle.ada_meaning.specs.declared.request.Request.{Request}
use Rattle.ada_meaning.specs.declared.request.Request.TheVariants as request
use Rattle.ada_meaning.specs.Step.{older}

-- The answers that are left: whether a request is granted, and which member is taken.
pub record Answers : Type 0 where
  pub grants : List Bool
  pub picks : List ℕ

-- The first of the answers that are left; where none is left, a given one.
abbrev pub first_or : {X : Type 0} → X → List X → X
first_or d [] = d
first_or d (x ∷ xs) = x

-- Whether a request is answered, and not only told.
abbrev pub is_asked : Request → Bool
is_asked (request.Allocate pool owner words object) = true
is_asked (request.Open pool owner) = true
is_asked (request.Back object) = false
is_asked (request.Close pool owner) = false
is_asked (request.New pool declaration) = false
is_asked (request.Gone pool) = false

-- What is asked takes the first answer; what is told takes none.
abbrev pub granted_by : Request → List Bool → Bool
granted_by request answers = cond (is_asked request) (first_or true answers) true

-- The answers that are left behind a request: one less, where it was asked.
abbrev pub left_by : Request → List Bool → List Bool
left_by request answers = cond (is_asked request) (older answers) answers

-- The member that the first answer names; the newest, if there are not so many.
abbrev pub member_below : ℕ → ℕ → ℕ
member_below n i = cond (nat_lt i n) i 0
