-- Paths that are used, none of which breaks a rule.

use Rattle.std.proofs.Common.{◌≡◌, Bool, true, false, List, [], ◌∷◌, ◌++◌, refl}
use Rattle.std.specs.Prelude.{if◌then◌else◌, Option, Some, None}
use Rattle.ada_flow.specs.Flow.{Holds, Use, Breach, is_left_of, leftmost, broken_in, broken_among}
use Rattle.ada_flow.specs.Tracking.{no_tracks}
use Rattle.ada_sound.proofs.Invariant.{NoneBroken}

-- The leftmost of two breaches is none only where both are.
leftmost_none : (a b : Option Breach) → leftmost a b ≡ None → (a ≡ None) × (b ≡ None)
leftmost_none None b e = (refl, e)
leftmost_none (Some a) None e = absurd (cc e)
leftmost_none (Some a) (Some b) e = go (is_left_of b.0 a.0) e
  where
    go : (c : Bool) → (if c then Some b else Some a) ≡ None → (Some a ≡ None) × (Some b ≡ None)
    go true e' = absurd (cc e')
    go false e' = absurd (cc e')

pub first_kept : (holds : Holds) (u : Use) (us : List Use) → NoneBroken holds (u ∷ us) → (broken_in no_tracks holds u ≡ None) × NoneBroken holds us
first_kept holds u us e = leftmost_none (broken_in no_tracks holds u) (broken_among no_tracks holds us) e

-- What is used comes in two parts.
pub kept_apart : (holds : Holds) (us vs : List Use) → NoneBroken holds (us ++ vs) → NoneBroken holds us × NoneBroken holds vs
kept_apart holds [] vs e = (refl, e)
kept_apart holds (u ∷ us) vs e =
    let h = first_kept holds u (us ++ vs) e in
    let g = kept_apart holds us vs h.1 in
    (rw (h.0, g.0) refl, g.1)

-- Neither of two parts breaks a rule.
pub kept_both : (holds : Holds) (us vs : List Use) → NoneBroken holds us → NoneBroken holds vs → NoneBroken holds (us ++ vs)
kept_both holds [] vs e f = f
kept_both holds (u ∷ us) vs e f =
    let h = first_kept holds u us e in
    rw (h.0, kept_both holds us vs h.1 f) refl
