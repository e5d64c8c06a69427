-- Which paths are seen as they are, and which begin with a tracked component.

use Rattle.std.proofs.Common.{◌≡◌, ℕ, zero, suc, ◌+◌, ◌<◌, Bool, true, false, List, [], ◌∷◌, Option, Some, None, refl, sym, ap, ◌∙◌, arith}
use Rattle.std.specs.Prelude.{◌==◌, ◌&&◌, if◌then◌else◌}
use Rattle.std.specs.List.{slice_index_or}
use Rattle.ada_program.specs.Form.{PathForm}
use Rattle.ada_meaning.specs.declared.state.Place.{Place}
use Rattle.ada_meaning.specs.declared.state.Value.{Value}
use Rattle.ada_meaning.specs.declared.state.Value.TheVariants.{Null, Names, Scalar, Part}
use Rattle.ada_meaning.specs.declared.state.Id.{Id}
use Rattle.ada_flow.specs.Tracking.{begins_with, behind_first, seen_from, seen}
use Rattle.ada_tracked.specs.Frames.{View, shifted, number_at, number_of}
use Rattle.ada_tracked.specs.Simple.{IsFrom}
use Rattle.ada_tracked.specs.Seen.{FormalIsFirst}
use Rattle.ada_tracked.proofs.Lists.{apart_is, shifted_same}

-- A path of which the first component is that of a variable.
abbrev pub moved : (x : ℕ) → PathForm → PathForm
moved x path = record { root = x; of_record = false; selectors = behind_first path.selectors; spot = path.spot }

-- The path, or one that begins with a variable, if one stands for its first component.
abbrev by_number : Option ℕ → PathForm → PathForm
by_number None path = path
by_number (Some x) path = moved x path

not_begun : (c x : ℕ) (cs : List ℕ) → (x == 0) ≡ false → begins_with c x cs ≡ false
not_begun c x [] e = refl
not_begun c x (d ∷ ds) e = ap (λ (b : Bool). b && (d == c)) e

from_other : (cs : List ℕ) (n : ℕ) (path : PathForm) → (path.root == 0) ≡ false → seen_from cs n path ≡ path
from_other [] n path e = refl
from_other (c ∷ cs) n path e =
    ap (λ (b : Bool). if b then moved n path else seen_from cs (n + 1) path) (not_begun c path.root path.selectors e) ∙ from_other cs (n + 1) path e

from_alone : (cs : List ℕ) (n : ℕ) (path : PathForm) → path.selectors ≡ [] → seen_from cs n path ≡ path
from_alone [] n path is = refl
from_alone (c ∷ cs) n path is =
    ap (λ (ds : List ℕ). if begins_with c path.root ds then moved n path else seen_from cs (n + 1) path) is ∙ from_alone cs (n + 1) path is

picked : (b : Bool) (n : ℕ) (m : Option ℕ) (path more : PathForm) → more ≡ by_number m path → (if b then moved n path else more) ≡ by_number (if b then Some n else m) path
picked true n m path more e = refl
picked false n m path more e = e

begun : (c x d : ℕ) (cs ds : List ℕ) → x ≡ 0 → cs ≡ d ∷ ds → begins_with c x cs ≡ (d == c)
begun c x d cs ds root is = ap (begins_with c x) is ∙ ap (λ (y : ℕ). (y == 0) && (d == c)) root

from_formal : (base : ℕ) (cs : List ℕ) (n : ℕ) (path : PathForm) (d : ℕ) (ds : List ℕ) → path.root ≡ 0 → path.selectors ≡ d ∷ ds → seen_from cs n path ≡ by_number (number_at (shifted base cs) n (base + d)) path
from_formal base [] n path d ds root is = refl
from_formal base (c ∷ cs) n path d ds root is =
    ap (λ (b : Bool). if b then moved n path else seen_from cs (n + 1) path) (begun c path.root d path.selectors ds root is ∙ sym (shifted_same base d c))
    ∙ picked (base + d == base + c) n (number_at (shifted base cs) (n + 1) (base + d)) path (seen_from cs (n + 1) path) (from_formal base cs (n + 1) path d ds root is)

-- How a path begins.
pub data Begins (w : View) (path : PathForm) : Type 0 where
  -- with a variable that is not the formal parameter
  apart : (0 < path.root) → seen w.tracks path ≡ path → Begins w path
  -- with that, and goes no further
  itself : path.root ≡ 0 → path.selectors ≡ [] → seen w.tracks path ≡ path → Begins w path
  -- with a component of that which is not tracked
  untracked : (c : ℕ) (cs : List ℕ) → path.root ≡ 0 → path.selectors ≡ c ∷ cs → number_of w (w.base + c) ≡ None → seen w.tracks path ≡ path → Begins w path
  -- with one that is
  tracked :
      (c : ℕ) (cs : List ℕ) (x : ℕ) → path.root ≡ 0 → path.selectors ≡ c ∷ cs → number_of w (w.base + c) ≡ Some x
      → seen w.tracks path ≡ record { root = x; of_record = false; selectors = cs; spot = path.spot } → Begins w path

by_found : (w : View) (path : PathForm) (c : ℕ) (cs : List ℕ) → path.root ≡ 0 → path.selectors ≡ c ∷ cs → (found : Option ℕ) → number_of w (w.base + c) ≡ found → Begins w path
by_found w path c cs root is None e =
    untracked c cs root is e (from_formal w.base w.tracks.components w.tracks.first path c cs root is ∙ ap (λ (found : Option ℕ). by_number found path) e)
by_found w path c cs root is (Some x) e =
    tracked c cs x root is e
    (from_formal w.base w.tracks.components w.tracks.first path c cs root is ∙ ap (λ (found : Option ℕ). by_number found path) e
    ∙ ap (λ (ds : List ℕ). record { root = x; of_record = false; selectors = behind_first ds; spot = path.spot }) is)

by_parts : (w : View) (path : PathForm) (x : ℕ) (cs : List ℕ) → path.root ≡ x → path.selectors ≡ cs → Begins w path
by_parts w path zero [] root is = itself root is (from_alone w.tracks.components w.tracks.first path is)
by_parts w path zero (c ∷ cs) root is = by_found w path c cs root is (number_of w (w.base + c)) refl
by_parts w path (suc x) cs root is =
    apart (omega (arith, root)) (from_other w.tracks.components w.tracks.first path (apart_is path.root 0 (λ e. absurd (omega (arith, e, root)))))

pub begins : (w : View) (path : PathForm) → Begins w path
begins w path = by_parts w path path.root path.selectors refl refl

-- A path that is followed from the formal parameter goes on behind that.
pub goes_on : (first x : ℕ) (cs : List ℕ) → x ≡ 0 → cs ≡ [] → IsFrom first x cs → ⊥
goes_on first x [] root is simple = omega (arith, root, simple.0)
goes_on first x (c ∷ cs) root is simple = absurd (cc)

pub within : (first x : ℕ) (cs : List ℕ) → IsFrom first x cs → x < first
within first x [] simple = simple.1
within first x (c ∷ cs) simple = simple

-- What the first variable holds.
pub formal : (w : View) (vs : List Value) → FormalIsFirst w vs → (place : Place) × ((slice_index_or vs 0 Null ≡ Part w.object place) × (place.component ≡ w.base))
formal w [] h = absurd h
formal w (Null ∷ vs) h = absurd h
formal w (Names o ∷ vs) h = absurd h
formal w (Scalar v ∷ vs) h = absurd h
formal w (Part o place ∷ vs) h = (place, (ap (λ (p : Id). Part p place) h.0, h.1))
