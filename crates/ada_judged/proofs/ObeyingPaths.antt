-- Which paths begin with a tracked component, and what they are as they are judged.

use Rattle.std.proofs.Common.{◌≡◌, ℕ, zero, suc, ◌+◌, Bool, true, false, List, [], ◌∷◌, Some, refl, sym, ap, ◌∙◌, arith}
use Rattle.std.specs.Prelude.{◌==◌, ◌&&◌, ◌||◌, if◌then◌else◌}
use Rattle.std.specs.List.{slice_get}
use Rattle.ada_text.specs.declared.spot.Spot.{Spot}
use Rattle.ada_program.specs.Form.{PathForm}
use Rattle.ada_effects.specs.Effects.{follows_value, path_raises, is_behind_value}
use Rattle.ada_flow.specs.Tracking.{Tracks, seen_from, seen, is_one_of, is_tracked}
use Rattle.ada_tracked.proofs.Lists.{is_same, apart_is}

-- A path with these parts.
abbrev pub path_of : (root : ℕ) → (of_record : Bool) → (selectors : List ℕ) → Spot → PathForm
path_of x r cs s = record { root = x; of_record = r; selectors = cs; spot = s }

-- Are there no more selectors?
abbrev pub is_end : List ℕ → Bool
is_end [] = true
is_end (c ∷ cs) = false

-- How a path is seen where these components are tracked, of which the first has this number.
pub data SeesFrom (components : List ℕ) (n : ℕ) (path : PathForm) : Type 0 where
  -- as it is
  plainly : seen_from components n path ≡ path → is_one_of components path ≡ false → SeesFrom components n path
  -- as one that begins with the variable for its first component
  tracked :
      (i c : ℕ) (cs : List ℕ) → path.root ≡ 0 → path.selectors ≡ c ∷ cs → slice_get components i ≡ Some c
      → seen_from components n path ≡ path_of (n + i) false cs path.spot → is_one_of components path ≡ is_end cs → SeesFrom components n path

-- A path behind a component is none.
none_behind : (components : List ℕ) (x d e : ℕ) (es : List ℕ) (r : Bool) (s : Spot) → is_one_of components (path_of x r (d ∷ e ∷ es) s) ≡ false
none_behind [] x d e es r s = refl
none_behind (c ∷ cs) x d e es r s = none_behind cs x d e es r s

-- Nor is a variable, or a component of another one.
variable_plainly : (components : List ℕ) (n x : ℕ) (r : Bool) (s : Spot) → SeesFrom components n (path_of x r [] s)
variable_plainly [] n x r s = plainly refl refl
variable_plainly (c ∷ cs) n x r s = variable_plainly_then (variable_plainly cs (n + 1) x r s)
  where
    variable_plainly_then : SeesFrom cs (n + 1) (path_of x r [] s) → SeesFrom (c ∷ cs) n (path_of x r [] s)
    variable_plainly_then (plainly e f) = plainly e f
    variable_plainly_then (tracked i c ds root is at e f) = absurd (cc)

-- A number behind another one is not 0.
pub above : (x : ℕ) → (suc x == 0) ≡ false
above x = apart_is (suc x) 0 (λ e. absurd (omega (arith, e)))

other_plainly : (components : List ℕ) (n x d : ℕ) (ds : List ℕ) (r : Bool) (s : Spot) → SeesFrom components n (path_of (suc x) r (d ∷ ds) s)
other_plainly components n x d ds r s = plainly (same components n) (no_component components ds)
  where
    same : (cs : List ℕ) (m : ℕ) → seen_from cs m (path_of (suc x) r (d ∷ ds) s) ≡ path_of (suc x) r (d ∷ ds) s
    same [] m = refl
    same (c ∷ cs) m =
        ap (λ (b : Bool). if b && (d == c) then path_of m false ds s else seen_from cs (m + 1) (path_of (suc x) r (d ∷ ds) s)) (above x) ∙ same cs (m + 1)

    no_component : (cs es : List ℕ) → is_one_of cs (path_of (suc x) r (d ∷ es) s) ≡ false
    no_component [] es = refl
    no_component (c ∷ cs) [] = ap (λ (b : Bool). (b && (d == c)) || is_one_of cs (path_of (suc x) r (d ∷ []) s)) (above x) ∙ no_component cs []
    no_component (c ∷ cs) (e ∷ es) = none_behind cs (suc x) d e es r s

-- The first of the components is that of the path, or one of the others may be.
first_sees : (c : ℕ) (cs : List ℕ) (n d : ℕ) (ds : List ℕ) (r : Bool) (s : Spot) → SeesFrom cs (n + 1) (path_of 0 r (d ∷ ds) s) → (same : Bool) → (d == c) ≡ same → SeesFrom (c ∷ cs) n (path_of 0 r (d ∷ ds) s)
first_sees c cs n d ds r s more true e =
    tracked 0 c ds refl (ap (λ (x : ℕ). x ∷ ds) (is_same d c e)) refl
    (ap (λ (b : Bool). if b then path_of n false ds s else seen_from cs (n + 1) (path_of 0 r (d ∷ ds) s)) e
    ∙ ap (λ (x : ℕ). path_of x false ds s) (omega arith))
    (begun ds)
  where
    begun : (es : List ℕ) → is_one_of (c ∷ cs) (path_of 0 r (d ∷ es) s) ≡ is_end es
    begun [] = ap (λ (b : Bool). b || is_one_of cs (path_of 0 r (d ∷ []) s)) e
    begun (f ∷ fs) = none_behind cs 0 d f fs r s
first_sees c cs n d ds r s (plainly same none) false e =
    plainly (ap (λ (b : Bool). if b then path_of n false ds s else seen_from cs (n + 1) (path_of 0 r (d ∷ ds) s)) e ∙ same) (unlike ds none)
  where
    unlike : (es : List ℕ) → is_one_of cs (path_of 0 r (d ∷ es) s) ≡ false → is_one_of (c ∷ cs) (path_of 0 r (d ∷ es) s) ≡ false
    unlike [] h = ap (λ (b : Bool). b || is_one_of cs (path_of 0 r (d ∷ []) s)) e ∙ h
    unlike (f ∷ fs) h = h
first_sees c cs n d ds r s (tracked i b es root is at same ends) false e =
    tracked (suc i) b es root is at
    (ap (λ (b : Bool). if b then path_of n false ds s else seen_from cs (n + 1) (path_of 0 r (d ∷ ds) s)) e ∙ same ∙ ap (λ (x : ℕ). path_of x false es s) (omega arith))
    (unlike ds ends)
  where
    unlike : (fs : List ℕ) → is_one_of cs (path_of 0 r (d ∷ fs) s) ≡ is_end es → is_one_of (c ∷ cs) (path_of 0 r (d ∷ fs) s) ≡ is_end es
    unlike [] h = ap (λ (b : Bool). b || is_one_of cs (path_of 0 r (d ∷ []) s)) e ∙ h
    unlike (f ∷ fs) h = h

formal_sees : (components : List ℕ) (n d : ℕ) (ds : List ℕ) (r : Bool) (s : Spot) → SeesFrom components n (path_of 0 r (d ∷ ds) s)
formal_sees [] n d ds r s = plainly refl refl
formal_sees (c ∷ cs) n d ds r s = first_sees c cs n d ds r s (formal_sees cs (n + 1) d ds r s) (d == c) refl

sees_from : (components : List ℕ) (n x : ℕ) (r : Bool) (ds : List ℕ) (s : Spot) → SeesFrom components n (path_of x r ds s)
sees_from components n x r [] s = variable_plainly components n x r s
sees_from components n zero r (d ∷ ds) s = formal_sees components n d ds r s
sees_from components n (suc x) r (d ∷ ds) s = other_plainly components n x d ds r s

-- How a path is seen: as another one, or as it is.
pub data Sees (tracks : Tracks) (path judged : PathForm) : Type 0 where
  plainly : judged ≡ path → is_tracked tracks path ≡ false → Sees tracks path judged
  tracked :
      (i c : ℕ) (cs : List ℕ) → path.root ≡ 0 → path.selectors ≡ c ∷ cs → slice_get tracks.components i ≡ Some c
      → judged ≡ path_of (tracks.first + i) false cs path.spot → is_tracked tracks path ≡ is_end cs → Sees tracks path judged

pub sees : (tracks : Tracks) (path : PathForm) → Sees tracks path (seen tracks path)
sees tracks path = as_seen (sees_from tracks.components tracks.first path.root path.of_record path.selectors path.spot)
  where
    as_seen : SeesFrom tracks.components tracks.first path → Sees tracks path (seen tracks path)
    as_seen (plainly e f) = plainly e f
    as_seen (tracked i c cs root is at e f) = tracked i c cs root is at e f

-- Where a path stands stays so, and so does whether it follows anything.
pub spot_alike : (tracks : Tracks) (path judged : PathForm) → Sees tracks path judged → judged.spot ≡ path.spot
spot_alike tracks path judged (plainly e f) = ap (λ (p : PathForm). p.spot) e
spot_alike tracks path judged (tracked i c cs root is at e f) = ap (λ (p : PathForm). p.spot) e

follows_alike : (c : ℕ) (cs : List ℕ) → follows_value false cs ≡ follows_value true (c ∷ cs)
follows_alike c [] = refl
follows_alike c (d ∷ cs) = refl

pub raises_alike : (tracks : Tracks) (path judged : PathForm) → (path.root ≡ 0 → path.of_record ≡ true) → Sees tracks path judged → path_raises judged ≡ path_raises path
raises_alike tracks path judged h (plainly e f) = ap path_raises e
raises_alike tracks path judged h (tracked i c cs root is at e f) =
    ap path_raises e ∙ follows_alike c cs
    ∙ sym (ap (λ (r : Bool). follows_value r path.selectors) (h root) ∙ ap (follows_value true) is)

-- A record lies behind a value where its path begins with a variable that is no record object, or goes on behind what it begins with.
behind_variable : (cs : List ℕ) → is_behind_value false cs ≡ true
behind_variable [] = refl
behind_variable (c ∷ cs) = refl

behind_component : (r : Bool) (c : ℕ) (cs : List ℕ) → is_behind_value r (c ∷ cs) ≡ true
behind_component true c cs = refl
behind_component false c cs = refl

-- Whether it does stays so.
pub behind_alike :
    (tracks : Tracks) (path judged : PathForm) → Sees tracks path judged
    → is_behind_value judged.of_record judged.selectors ≡ is_behind_value path.of_record path.selectors
behind_alike tracks path judged (plainly e f) = ap (λ (p : PathForm). is_behind_value p.of_record p.selectors) e
behind_alike tracks path judged (tracked i c cs root is at e f) =
    ap (λ (p : PathForm). is_behind_value p.of_record p.selectors) e ∙ behind_variable cs
    ∙ sym (ap (is_behind_value path.of_record) is ∙ behind_component path.of_record c cs)

-- Of a tracked component nothing follows, and of one that is not tracked something does.
pub tracked_ends : (tracks : Tracks) (path judged : PathForm) → Sees tracks path judged → is_tracked tracks path ≡ true → judged.selectors ≡ []
tracked_ends tracks path judged (plainly e f) g = absurd (cc)
tracked_ends tracks path judged (tracked i c [] root is at e f) g = ap (λ (p : PathForm). p.selectors) e
tracked_ends tracks path judged (tracked i c (d ∷ cs) root is at e f) g = absurd (cc)

-- A variable is seen as it is.
pub variable_alike : (tracks : Tracks) (path judged : PathForm) → Sees tracks path judged → path.selectors ≡ [] → judged ≡ path
variable_alike tracks path judged (plainly e f) g = e
variable_alike tracks path judged (tracked i c cs root is at e f) g = absurd (cc)
