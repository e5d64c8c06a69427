-- What that says of record objects and collections.

use Rattle.std.proofs.Common.{◌≡◌, ℕ, zero, suc, ◌+◌, ◌≤◌, ◌<◌, ◌==◌, ◌||◌, Bool, true, false, if◌then◌else◌, List, [], ◌∷◌, ◌++◌, length, Option, arith, refl, sym, ap, ◌∙◌, subst, ◌⊎◌, inl, inr}
use Rattle.std.proofs.lemmas.Bool.{eqb-true, eq-eqb}
use Rattle.std.specs.List.{slice_index_or, Contains}
use Rattle.ada_program.specs.declared.program.TypeNo.{TypeNo}
use Rattle.ada_program.specs.ProgramForm.{TypeForm, ProgramForm, program_form}
use Rattle.ada_program.specs.WellFormed.{reached_components}
use Rattle.ada_program.specs.Nested.{Callees, are_open, callees_of}
use Rattle.ada_meaning.specs.State.{Owned, declared, collection, record_object, storage_pool, Item, Master}
use Rattle.ada_meaning.specs.Named.{State}
use Rattle.ada_meaning.specs.Law.{items_of}
use Rattle.ada_order.proofs.Numbers.{Counted}
use Rattle.ada_order.proofs.Orders.{kept_first, run_keeps}
use Rattle.ada_scopes.specs.Scopes.{is_number_of, is_declared_object, lasting, IsOpenIn, HoldsNames}
use Rattle.ada_scopes.proofs.Counts.{one, times, times_append, target_open, opened_by, opened, scopes, all_of, opened_all}
use Rattle.ada_scopes.proofs.Layers.{Bare, Layered, AllLayered, bare_layered}
use Rattle.ada_scopes.proofs.Control.{RecordNeeds, RecordsNeed, Nested, standing, beginning, parting, resting}
use Rattle.ada_outlived.specs.Outlived.{AreRecordsOutlived, RecordsAreOutlived, IsOpenBelow, AreRecordsNewer, RecordsAreNewer}
use Rattle.ada_outlived.proofs.Records.{NeedNow}
use Rattle.ada_outlived.proofs.Runs.{Outlives, state_outlives}

-- What is opened is the collection of an item.
abbrev HasOpened : ℕ → List Item → Type 0
HasOpened t is = (i : Item) × (pool : Option ℕ) × Contains is i × (i.owned ≡ collection t pool)

opened_later : (t : ℕ) (i : Item) (is : List Item) → HasOpened t is → HasOpened t (i ∷ is)
opened_later t i is k = (k.0, k.1, (suc k.2.0, omega (arith, k.2.1), k.2.2), k.3)

opened_one : (t : ℕ) (i : Item) (is : List Item) (access : ℕ) (pool : Option ℕ) (b : Bool) → (access == t) ≡ b → i.owned ≡ collection access pool → 1 ≤ one b + times t (opened is) → (1 ≤ times t (opened is) → HasOpened t is) → HasOpened t (i ∷ is)
opened_one t i is access pool true same own le k = (i, pool, (zero, omega arith, refl), own ∙ ap (λ (u : ℕ). collection u pool) (eqb-true access t same))
opened_one t i is access pool false same own le k = opened_later t i is (k (omega (arith, le)))

opened_first : (t : ℕ) (i : Item) (is : List Item) (owned : Owned) → i.owned ≡ owned → 1 ≤ times t (opened_by owned (opened is)) → (1 ≤ times t (opened is) → HasOpened t is) → HasOpened t (i ∷ is)
opened_first t i is (declared x) own le k = opened_later t i is (k le)
opened_first t i is (record_object u) own le k = opened_later t i is (k le)
opened_first t i is (storage_pool declaration number) own le k = opened_later t i is (k le)
opened_first t i is (collection access pool) own le k = opened_one t i is access pool (access == t) refl own le k

opened_item : (t : ℕ) (is : List Item) → 1 ≤ times t (opened is) → HasOpened t is
opened_item t [] le = absurd (omega (arith, le))
opened_item t (i ∷ is) le = opened_first t i is i.owned refl le (opened_item t is)

open_in : (t : ℕ) (ms : List Master) → 1 ≤ times t (all_of (scopes ms)) → IsOpenIn ms t
open_in t ms le = opened_item t (items_of ms) (subst (λ (us : List ℕ). 1 ≤ times t us) (sym (opened_all ms)) le)

-- An item of some and of others is one of either.
contains_later : (i j : Item) (is : List Item) → Contains is i → Contains (j ∷ is) i
contains_later i j is k = (suc k.0, omega (arith, k.1), k.2)

contains_at : (is js : List Item) (i : Item) (k : ℕ) → k < length (is ++ js) → slice_index_or (is ++ js) k i ≡ i → Contains is i ⊎ Contains js i
contains_at [] js i k lt at = inr (k, lt, at)
contains_at (j ∷ is) js i zero lt at = inl (zero, omega arith, at)
contains_at (j ∷ is) js i (suc k) lt at = elim (contains_at is js i k (omega (arith, lt)) at) [ inl own ↦ inl (contains_later i j is own) | inr outer ↦ inr outer ]

-- The masters that last as long as an item.
number_by : (b c : Bool) → c ≡ true → (b || c) ≡ true
number_by true c is = refl
number_by false c is = is

number_here : (b c : Bool) → b ≡ true → (b || c) ≡ true
number_here true c is = refl
number_here false c is = absurd (cc)

number_at : (is : List Item) (i : Item) (k : ℕ) → k < length is → slice_index_or is k i ≡ i → is_number_of is i.number ≡ true
number_at [] i k lt at = absurd (omega (arith, lt))
number_at (j ∷ is) i zero lt at = number_here (j.number == i.number) (is_number_of is i.number) (eq-eqb j.number i.number (ap (λ (x : Item). x.number) at))
number_at (j ∷ is) i (suc k) lt at = number_by (j.number == i.number) (is_number_of is i.number) (number_at is i k (omega (arith, lt)) at)

lasting_here : (n : ℕ) (m : Master) (ms : List Master) → is_number_of m.items n ≡ true → lasting n (m ∷ ms) ≡ m ∷ ms
lasting_here n m ms is = ap (λ b. if b then m ∷ ms else lasting n ms) is

fewer_by : (n t : ℕ) (m : Master) (ms : List Master) (b : Bool) → times t (all_of (scopes (lasting n ms))) ≤ times t (all_of (scopes ms)) → times t (all_of (scopes (if b then m ∷ ms else lasting n ms))) ≤ times t (all_of (scopes (m ∷ ms)))
fewer_by n t m ms true le = omega arith
fewer_by n t m ms false le = let sum = times_append t (opened m.items) (all_of (scopes ms)) in omega (arith, le, sum)

lasting_fewer : (n t : ℕ) (ms : List Master) → times t (all_of (scopes (lasting n ms))) ≤ times t (all_of (scopes ms))
lasting_fewer n t [] = omega arith
lasting_fewer n t (m ∷ ms) = fewer_by n t m ms (is_number_of m.items n) (lasting_fewer n t ms)

lasting_by : (n t : ℕ) (m : Master) (ms : List Master) (b : Bool) → 1 ≤ times t (all_of (scopes (lasting n ms))) → 1 ≤ times t (all_of (scopes (if b then m ∷ ms else lasting n ms)))
lasting_by n t m ms true le =
    let sum = times_append t (opened m.items) (all_of (scopes ms)) in
    let fewer = lasting_fewer n t ms in
    omega (arith, le, sum, fewer)
lasting_by n t m ms false le = le

-- What a record object needs is open.
needs_at : (types : List TypeForm) (there : List ℕ) (t : ℕ) (i : Item) (is : List Item) (k : ℕ) → k < length is → slice_index_or is k i ≡ i → i.owned ≡ record_object t → RecordsNeed types there is → are_open there (reached_components types t) ≡ true
needs_at types there t i [] k lt at own h = absurd (omega (arith, lt))
needs_at types there t i (j ∷ is) zero lt at own h = subst (λ (o : Owned). RecordNeeds types there o) (ap (λ (x : Item). x.owned) at ∙ own) h.0
needs_at types there t i (j ∷ is) (suc k) lt at own h = needs_at types there t i is k (omega (arith, lt)) at own h.1

module _ (types : List TypeForm) (i : Item) (t c : ℕ) (target : TypeNo) (own : i.owned ≡ record_object t) (names : HoldsNames types t c target) where
  target_at : (there : List ℕ) (is : List Item) → Contains is i → RecordsNeed types there is → 1 ≤ times target.0 there
  target_at there is at needs = target_open there (reached_components types t) c target names (needs_at types there t i is at.0 at.1 at.2 own needs)

  open_at : (ms : List Master) → Contains (items_of ms) i → NeedNow types ms → 1 ≤ times target.0 (all_of (scopes (lasting i.number ms)))
  open_at [] at h = absurd (let lt = at.1 in omega (arith, lt))
  open_at (m ∷ ms) at h = elim (contains_at m.items (items_of ms) i at.0 at.1 at.2) [ inl here ↦ inner here | inr outer ↦ lasting_by i.number target.0 m ms (is_number_of m.items i.number) (open_at ms outer h.1) ]
    where
      inner : Contains m.items i → 1 ≤ times target.0 (all_of (scopes (lasting i.number (m ∷ ms))))
      inner here =
          subst (λ (xs : List Master). 1 ≤ times target.0 (all_of (scopes xs))) (sym (lasting_here i.number m ms (number_at m.items i here.0 here.1 here.2)))
          (target_at (opened m.items ++ all_of (scopes ms)) m.items here h.0)

  -- It is older.
  abbrev HasBelow : List Item → Type 0
  HasBelow is = (j : Item) × (pool : Option ℕ) × Contains is j × (j.owned ≡ collection target.0 pool) × (j.number < i.number)

  below_later : (x : Item) (is : List Item) → HasBelow is → HasBelow (x ∷ is)
  below_later x is b = (b.0, b.1, contains_later b.0 x is b.2, b.3, b.4)

  counted_less : (j : Item) (is : List Item) (k : ℕ) → k < length is → slice_index_or is k j ≡ j → Counted is → j.number < length is
  counted_less j [] k lt at h = absurd (omega (arith, lt))
  counted_less j (x ∷ is) zero lt at h = let same = ap (λ (y : Item). y.number) at in let first = h.0 in omega (arith, same, first)
  counted_less j (x ∷ is) (suc k) lt at h = let less = counted_less j is k (omega (arith, lt)) at h.1 in omega (arith, less)

  found_below : (x : Item) (is : List Item) → x ≡ i → Counted (x ∷ is) → HasOpened target.0 is → HasBelow (x ∷ is)
  found_below x is same counted found =
      let number : x.number ≡ i.number = ap (λ (y : Item). y.number) same in
      let less = counted_less found.0 is found.2.0 found.2.1 found.2.2 counted.1 in
      let first = counted.0 in
      (found.0, found.1, contains_later found.0 x is found.2, found.3, omega (arith, less, first, number))

  -- Whatever is newer than a record object of its master is an object.
  bare_at : (is : List Item) (k : ℕ) → k < length is → slice_index_or is k i ≡ i → Bare is → ⊥
  bare_at [] k lt at bare = omega (arith, lt)
  bare_at (x ∷ is) zero lt at bare =
      let object : is_declared_object x.owned ≡ true = ap is_declared_object (ap (λ (y : Item). y.owned) at ∙ own) in
      let never : true ≡ false = sym object ∙ bare.0 in
      cc never
  bare_at (x ∷ is) (suc k) lt at bare = bare_at is k (omega (arith, lt)) at bare.1

  opened_behind : (owned : Owned) (us : List ℕ) → is_declared_object owned ≡ true → 1 ≤ times target.0 (opened_by owned us) → 1 ≤ times target.0 us
  opened_behind (declared x) us object le = le
  opened_behind (record_object u) us object le = le
  opened_behind (collection access pool) us object le = absurd (cc object)
  opened_behind (storage_pool declaration number) us object le = absurd (cc object)

  object_by : (b : Bool) (x : Item) (is : List Item) (k : ℕ) → is_declared_object x.owned ≡ b → k < length is → slice_index_or is k i ≡ i → (is_declared_object x.owned ≡ false → Bare is) → is_declared_object x.owned ≡ true
  object_by true x is k object lt at bare = object
  object_by false x is k object lt at bare = absurd (bare_at is k lt at (bare object))

  below_at : (is outer : List Item) (k : ℕ) → k < length is → slice_index_or is k i ≡ i → Layered is → Counted (is ++ outer) → 1 ≤ times target.0 (opened (is ++ outer)) → HasBelow (is ++ outer)
  below_at [] outer k lt at layered counted le = absurd (omega (arith, lt))
  below_at (x ∷ is) outer zero lt at layered counted le =
      let object : is_declared_object x.owned ≡ true = ap is_declared_object (ap (λ (y : Item). y.owned) at ∙ own) in
      found_below x (is ++ outer) at counted (opened_item target.0 (is ++ outer) (opened_behind x.owned (opened (is ++ outer)) object le))
  below_at (x ∷ is) outer (suc k) lt at layered counted le =
      let inner : k < length is = omega (arith, lt) in
      let object = object_by (is_declared_object x.owned) x is k refl inner at layered.0 in
      below_later x (is ++ outer) (below_at is outer k inner at layered.1 counted.1 (opened_behind x.owned (opened (is ++ outer)) object le))

  counted_behind : (is js : List Item) → Counted (is ++ js) → Counted js
  counted_behind [] js h = h
  counted_behind (x ∷ is) js h = counted_behind is js h.1

  below_behind : (is js : List Item) → HasBelow js → HasBelow (is ++ js)
  below_behind [] js b = b
  below_behind (x ∷ is) js b = below_later x (is ++ js) (below_behind is js b)

  below_in : (ms : List Master) → Contains (items_of ms) i → AllLayered ms → Counted (items_of ms) → NeedNow types ms → IsOpenBelow ms i.number target.0
  below_in [] at layered counted h = absurd (let lt = at.1 in omega (arith, lt))
  below_in (m ∷ ms) at layered counted h =
      elim (contains_at m.items (items_of ms) i at.0 at.1 at.2) [
        | inl here ↦ inner here
        | inr outer ↦ below_behind m.items (items_of ms) (below_in ms outer layered.1 (counted_behind m.items (items_of ms) counted) h.1)
      ]
    where
      inner : Contains m.items i → IsOpenBelow (m ∷ ms) i.number target.0
      inner here =
          below_at m.items (items_of ms) here.0 here.1 here.2 layered.0 counted
          (subst (λ (us : List ℕ). 1 ≤ times target.0 us) (sym (opened_all (m ∷ ms))) (target_at (opened m.items ++ all_of (scopes ms)) m.items here h.0))

-- Over states.
pub records_outlived : (p : ProgramForm) (s : State) → Outlives p s → AreRecordsOutlived p.types s
records_outlived p s h i t c target at own names = open_in target.0 (lasting i.number s.masters) (open_at p.types i t c target own names s.masters at h.keeps.0)

layers_of : (types : List TypeForm) (callees : Callees) (main : Option (List ℕ)) (calling : Bool) (s : State) → Nested types callees main calling s → AllLayered s.masters
layers_of types callees main calling s (standing ss w n) = w.layered
layers_of types callees main calling s (beginning b) = subst AllLayered (sym b.masters) (bare_layered b.m.items b.growing.bare, b.growing.layered)
layers_of types callees main calling s (parting ss w runs goes) = w.layered
layers_of types callees main calling s (resting ss w none ends) = w.layered

pub records_newer : (p : ProgramForm) (s : State) → Outlives p s → Counted (items_of s.masters) → AreRecordsNewer p.types s
records_newer p s h counted i t c target at own names =
    below_in p.types i t c target own names s.masters at (layers_of p.types (callees_of p) _ _ s h.scoped.nested) counted h.keeps.0

-- Over runs.
pub outlived : RecordsAreOutlived
outlived program well nest operations input events last run = records_outlived (program_form program) last (state_outlives program well nest operations input events last run)

pub newer : RecordsAreNewer
newer program well nest operations input events last run =
    records_newer (program_form program) last (state_outlives program well nest operations input events last run) (run_keeps run (kept_first program input)).counted
