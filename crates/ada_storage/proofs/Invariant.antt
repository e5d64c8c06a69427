-- What every state of a run keeps.

use Rattle.std.specs.Prelude.{◌≡◌, ◌≢◌, ℕ, zero, suc, ◌+◌, ◌<◌, ◌≤◌, Bool, true, false, ◌==◌, cond, List, [], ◌∷◌}
use Rattle.ada_storage.specs.State.{Forest, Owned, declared, collection, Item, Joins, to_items, to_collection, Job, all_in, call, called, Control, stops, acts, leaves, finalizes, frees, initializes, undoes, assigns, adjusts, Object, bit, in_list, in_forest, in_forests, in_jobs, within, withins, placed, opens}
use Rattle.ada_storage.specs.Step.{Simple}
use Rattle.ada_storage.specs.Law.{top}

abbrev pub Alive : Type 0
Alive = ℕ → ℕ → Bool

abbrev pub Objects : Type 0
Objects = ℕ → Object

-- Once an assignment is done, its parts are alive.
abbrev pub alive_by : ℕ → Bool → Bool
alive_by zero b = b
alive_by (suc n) b = true

abbrev pub after : Alive → ℕ → Forest → Alive
after A o f x q = cond (x == o) (alive_by (in_forest q f) (A x q)) (A x q)

-- All parts of an object in its place are alive, and its home is that place's master.
abbrev pub Whole : Alive → Objects → ℕ → ℕ → Type 0
Whole A T m o = ((q : ℕ) → bit (A o q) ≡ in_forest q (T o).shape) × ((T o).home ≡ m)

abbrev pub AllWhole : Alive → Objects → ℕ → List ℕ → Type 0
AllWhole A T m [] = Unit {0}
AllWhole A T m (o ∷ os) = Whole A T m o × AllWhole A T m os

abbrev pub OwnedFits : Alive → Objects → ℕ → Owned → Type 0
OwnedFits A T m (declared o) = Whole A T m o
OwnedFits A T m (collection os) = AllWhole A T m os

abbrev pub ItemsFit : Alive → Objects → ℕ → List Item → Type 0
ItemsFit A T m [] = Unit {0}
ItemsFit A T m (i ∷ is) = OwnedFits A T m i.owned × ItemsFit A T m is

-- What is initialized has all that is strictly inside it initialized, at each moment so far.
abbrev pub Closed : List ℕ → Forest → Type 0
Closed done f = (p q : ℕ) → 0 < in_list q done → 0 < within p q f → 0 < in_list p done

abbrev pub ClosedSoFar : List ℕ → Forest → Type 0
ClosedSoFar [] f = Unit {0}
ClosedSoFar (x ∷ done) f = Closed (x ∷ done) f × ClosedSoFar done f

-- What is left of an initialization has what is inside a part before the part.
abbrev pub JobsFit : List Job → Forest → Type 0
JobsFit [] f = Unit {0}
JobsFit (all_in g ∷ js) f = ((p q : ℕ) → 0 < in_forest q g → within p q g ≡ within p q f) × JobsFit js f
JobsFit (call x ∷ js) f = ((p : ℕ) → 0 < within p x f → in_jobs p js ≡ 0) × JobsFit js f
JobsFit (called x ∷ js) f = ((p : ℕ) → 0 < within p x f → in_jobs p js ≡ 0) × JobsFit js f

-- The master of an object under construction.
abbrev pub HomeFits : Joins → ℕ → Control → Type 0
HomeFits to_items home k = home ≡ top k
HomeFits (to_collection a c) home k = (home ≡ a) × (opens a c k ≡ 1)

-- What is left of an object has all its parts as in the whole.
abbrev pub Agrees : List Forest → Forest → Type 0
Agrees fs f = (p q : ℕ) → 0 < in_forests q fs → withins p q fs ≡ within p q f

-- Each frame says of its object which parts are alive; an assignment will have its parts alive for the frames below.
abbrev pub Fits : Alive → Objects → Control → Type 0
Fits A T stops = Unit {0}
Fits A T (acts m k) = ItemsFit A T m.number m.items × (top k < m.number) × Fits A T k
Fits A T (leaves m mode k) = ItemsFit A T m.number m.items × (top k < m.number) × Fits A T k
Fits A T (finalizes m i o fs mode k) = (((q : ℕ) → bit (A o q) ≡ in_forests q fs) × Agrees fs (T o).shape) × ((T o).home ≡ m.number) × (ItemsFit A T m.number m.items × (top k < m.number) × Fits A T k)
Fits A T (frees n o fs k) = (((q : ℕ) → bit (A o q) ≡ in_forests q fs) × Agrees fs (T o).shape) × ((T o).home ≤ top k) × Fits A T k
Fits A T (initializes o joins js done k) = ((q : ℕ) → bit (A o q) ≡ in_list q done) × ((q : ℕ) → in_list q done + in_jobs q js ≡ in_forest q (T o).shape) × (Simple (T o).shape × JobsFit js (T o).shape × ClosedSoFar done (T o).shape) × HomeFits joins (T o).home k × Fits A T k
Fits A T (undoes n o done k) = (((q : ℕ) → bit (A o q) ≡ in_list q done) × ClosedSoFar done (T o).shape) × ((T o).home ≤ top k) × Fits A T k
Fits A T (assigns n o f fs k) = (((q : ℕ) → 0 < in_forest q f → bit (A o q) ≡ in_forests q fs) × Agrees fs f) × ((q : ℕ) → in_forests q fs ≤ in_forest q f) × Simple f × (0 < placed o k) × Fits (after A o f) T k
Fits A T (adjusts o f js done k) = ((q : ℕ) → 0 < in_forest q f → bit (A o q) ≡ in_list q done) × ((q : ℕ) → in_list q done + in_jobs q js ≡ in_forest q f) × Simple f × (0 < placed o k) × Fits (after A o f) T k

-- The numbers of items fall from the newest to the oldest, below a bound, or from the newest on.
abbrev pub Falls : ℕ → List Item → Type 0
Falls b [] = Unit {0}
Falls b (i ∷ is) = (i.number < b) × Falls i.number is

abbrev pub Fall : List Item → Type 0
Fall [] = Unit {0}
Fall (i ∷ is) = Falls i.number is

abbrev pub Sorted : ℕ → Control → Type 0
Sorted b stops = Unit {0}
Sorted b (acts m k) = Fall m.items × Sorted b k
Sorted b (leaves m mode k) = Fall m.items × Sorted b k
Sorted b (finalizes m i o fs mode k) = Falls (suc i) m.items × Sorted b k
Sorted b (frees n o fs k) = (n < b) × Sorted b k
Sorted b (initializes o joins js done k) = Sorted b k
Sorted b (undoes n o done k) = (n < b) × Sorted b k
Sorted b (assigns n o f fs k) = (n < b) × Sorted n k
Sorted b (adjusts o f js done k) = Sorted b k

-- The invariant.
pub record Inv (A : Alive) (T : Objects) (k : Control) (c n : ℕ) : Type 0 where
  pub fits : Fits A T k
  pub places : (x : ℕ) → placed x k ≡ bit (T x).lives
  pub dead : (x : ℕ) → (T x).lives ≡ false → (q : ℕ) → A x q ≡ false
  pub fresh : (x : ℕ) → c ≤ x → (T x).lives ≡ false
  pub tops : top k < n
  pub sorted : Sorted n k

-- The leaving of a master has passed the items above a number.
abbrev pub Past : ℕ → ℕ → Control → Type 0
Past a n stops = Unit {0}
Past a n (acts m k) = (m.number ≢ a) × Past a n k
Past a n (leaves m mode k) = (m.number ≡ a → Falls (suc n) m.items) × Past a n k
Past a n (finalizes m i o fs mode k) = (m.number ≡ a → (i ≤ n) × Falls (suc n) m.items) × Past a n k
Past a n (frees x o fs k) = Past a n k
Past a n (initializes o joins js done k) = Past a n k
Past a n (undoes x o done k) = Past a n k
Past a n (assigns x o f fs k) = Past a n k
Past a n (adjusts o f js done k) = Past a n k
