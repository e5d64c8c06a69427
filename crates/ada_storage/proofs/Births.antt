-- With an object its parts get their values before what they lie in.

use Rattle.std.proofs.Common.{◌≡◌, ◌≢◌, ℕ, ◌<◌, ◌≤◌, cond, List, [], ◌∷◌, refl, sym, ap, ◌∙◌, inl, inr, subst, arith}
use Rattle.std.specs.Prelude.{◌==◌}
use Rattle.std.proofs.lemmas.Bool.Decides.{eqb_tells}
use Rattle.ada_storage.specs.State.{Forest, none, tree, Value, creation, Event, born, Control, stops, acts, leaves, finalizes, frees, initializes, undoes, assigns, adjusts, State, same, in_list, in_forest, within}
use Rattle.ada_storage.specs.Step.{Choice, goes, step}
use Rattle.ada_storage.specs.Law.{Run, first_state, Births, and_then, births}
use Rattle.ada_storage.proofs.Invariant.{Alive, Objects, Closed, ClosedSoFar, Fits}
use Rattle.ada_storage.proofs.Facts.{same_self, same_other, eq_self}
use Rattle.ada_storage.proofs.Keeps.{NewestDone}
use Rattle.ada_storage.proofs.Steps.{step_good}
use Rattle.ada_storage.proofs.Runs.{first_inv, inv_run}
use Rattle.ada_storage.proofs.History.{History, step_passes}
use Rattle.ada_storage.proofs.Orders.{hist_run}

-- Nothing lies in itself.
within_self : (x : ℕ) (f : Forest) → in_forest x f ≤ 1 → within x x f ≡ 0
within_self x none le = refl
within_self x (tree y inside others) le =
    let a = within_self x inside (omega (arith, le)) in
    let b = within_self x others (omega (arith, le)) in
    elim (eqb_tells x y) [
      | inl h ↦
          let one : same x y ≡ 1 = subst (λ (z : ℕ). same x z ≡ 1) h.1 (same_self x) in
          let c : cond (x == y) (in_forest x inside) 0 ≡ in_forest x inside = ap (λ b. cond b (in_forest x inside) 0) h.0 in
          omega (arith, a, b, c, one, le)
      | inr h ↦
          let c : cond (x == y) (in_forest x inside) 0 ≡ 0 = ap (λ b. cond b (in_forest x inside) 0) h.0 in
          omega (arith, a, b, c)
    ]

newest_closed : (x p : ℕ) (rest : List ℕ) (f : Forest) → in_forest x f ≤ 1 → Closed (x ∷ rest) f → 0 < within p x f → 0 < in_list p rest
newest_closed x p rest f le closed inside =
    let there = closed p x (let one = same_self x in omega (arith, one)) inside in
    let other : p ≢ x = (λ is. let z = within_self x f le in let w = subst (λ (y : ℕ). 0 < within y x f) is inside in omega (arith, z, w)) in
    let none = same_other p x other in
    omega (arith, there, none)

-- The event says so of the list of births with it: it stands in front of those before it.
behind_front : (v : Value) (B : Births) → and_then B (born v creation) v.object ≡ v.part ∷ B v.object
behind_front v B = ap (λ b. cond b (v.part ∷ B v.object) (B v.object)) (eq_self v.object)

cut : (x y : ℕ) (xs ys : List ℕ) → x ∷ xs ≡ y ∷ ys → xs ≡ ys
cut x y xs ys e = cc e

frame_first :
    (A : Alive) (T : Objects) (v : Value) (B : Births) (k : Control) (p : ℕ) → NewestDone v k → Fits A T k → History (and_then B (born v creation)) k
    → 0 < within p v.part (T v.object).shape → 0 < in_list p (B v.object)
frame_first A T v B (initializes o joins js done k) p newest f h inside =
    let at_v : and_then B (born v creation) v.object ≡ done = subst (λ (x : ℕ). and_then B (born v creation) x ≡ done) newest.0 h.0 in
    let rest : B v.object ≡ newest.1 = cut v.part v.part (B v.object) newest.1 (sym (behind_front v B) ∙ at_v ∙ newest.2) in
    let simple = subst (λ (x : ℕ). (q : ℕ) → in_forest q (T x).shape ≤ 1) newest.0 f.2.0 in
    let closed_so_far = subst (λ (x : ℕ). ClosedSoFar done (T x).shape) newest.0 f.2.2 in
    let closed = subst (λ (xs : List ℕ). ClosedSoFar xs (T v.object).shape) newest.2 closed_so_far in
    subst (λ (xs : List ℕ). 0 < in_list p xs) (sym rest) (newest_closed v.part p newest.1 (T v.object).shape (simple v.part) closed.0 inside)
frame_first A T v B stops p newest f h inside = absurd newest
frame_first A T v B (acts m k) p newest f h inside = absurd newest
frame_first A T v B (leaves m mode k) p newest f h inside = absurd newest
frame_first A T v B (finalizes m i o fs mode k) p newest f h inside = absurd newest
frame_first A T v B (frees n o fs k) p newest f h inside = absurd newest
frame_first A T v B (undoes n o done k) p newest f h inside = absurd newest
frame_first A T v B (assigns n o g fs k) p newest f h inside = absurd newest
frame_first A T v B (adjusts o g js done k) p newest f h inside = absurd newest

pub parts_first :
    (s : State) (before : List Event) → Run first_state before s → (mid : State) (choice : Choice) (v : Value) → step choice s ≡ goes (born v creation) mid
    → (p : ℕ) → 0 < within p v.part (mid.objects v.object).shape → 0 < in_list p (births (λ o. []) before v.object)
parts_first s before run mid choice v is p inside =
    let inv = inv_run run first_inv in
    let good = step_good choice s (born v creation) mid inv is in
    let history = hist_run (λ o. []) run first_inv tt (λ o le. refl) in
    let passing = step_passes (births (λ o. []) before) choice s (born v creation) mid inv history.0 history.1 is in
    frame_first mid.alive mid.objects v (births (λ o. []) before) mid.control p good.says good.inv.fits passing.past inside
