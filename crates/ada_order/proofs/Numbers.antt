-- Items and masters: an item's number says how many are below it, and a master's is above those of the masters that enclose it.

use Rattle.std.proofs.Common.{◌≡◌, ◌≢◌, ℕ, suc, ◌<◌, ◌≤◌, List, [], ◌∷◌, ◌++◌, length, refl, ◌∙◌, arith, length-append}
use Rattle.std.specs.List.{All, AllPairs}
use Rattle.std.proofs.lemmas.List.Elements.{All-nil, All-cons}
use Rattle.std.proofs.lemmas.List.Kept.{AllPairs-cons}
use Rattle.ada_meaning.specs.State.{Owned, Item, Master, height}
use Rattle.ada_meaning.specs.Step.{older, owning, shorter}
use Rattle.ada_meaning.specs.Law.{items_of, Falls, MastersFall, IsInnermost}
use Rattle.ada_order.specs.Masters.{IsBelow}

-- An item's number is that of the items below it.
abbrev pub Counted : List Item → Type 0
Counted [] = Unit {0}
Counted (i ∷ is) = (i.number ≡ length is) × Counted is

-- Numbers fall along the masters, from below this one on.
abbrev pub Entered : ℕ → List Master → Type 0
Entered n [] = Unit {0}
Entered n (m ∷ ms) = (m.number < n) × Entered m.number ms

-- No master that is entered has this number.
abbrev pub NotEntered : ℕ → List Master → Type 0
NotEntered m [] = Unit {0}
NotEntered m (n ∷ ns) = (n.number ≢ m) × NotEntered m ns

-- The newest of these items has this number.
abbrev pub NewestItem : ℕ → List Item → Type 0
NewestItem i [] = ⊥
NewestItem i (j ∷ js) = j.number ≡ i

-- The innermost master and its newest item have these numbers.
abbrev pub Newest : (m i : ℕ) → List Master → Type 0
Newest m i [] = ⊥
Newest m i (n ∷ ns) = (n.number ≡ m) × NewestItem i n.items

pub is_innermost : (m i : ℕ) (ms : List Master) → Newest m i ms → IsInnermost m ms
is_innermost m i [] w = absurd w
is_innermost m i (n ∷ ns) w = w.0

-- All items are counted.
pub height_is : (ms : List Master) → height ms ≡ length (items_of ms)
height_is [] = refl
height_is (m ∷ ms) = let h = height_is ms in omega (arith, length-append m.items (items_of ms), h)

-- Items that are owned, and items that are gone.
pub counted_owning : (what : Owned) (ms : List Master) → Counted (items_of ms) → Counted (items_of (owning (record { number = height ms; owned = what }) ms))
counted_owning what [] c = c
counted_owning what (m ∷ ms) c = (height_is (m ∷ ms), c)

counted_older : (is : List Item) (i : Item) (js : List Item) → Counted ((i ∷ is) ++ js) → Counted (is ++ js)
counted_older is i js c = c.1

counted_without : (is : List Item) (n : ℕ) (ms : List Master) → Counted (items_of (record { number = n; items = is } ∷ ms)) → Counted (items_of (shorter (record { number = n; items = is } ∷ ms)))
counted_without [] n ms c = c
counted_without (i ∷ is) n ms c = c.1

pub counted_shorter : (ms : List Master) → Counted (items_of ms) → Counted (items_of (shorter ms))
counted_shorter [] c = c
counted_shorter (m ∷ ms) c = counted_without m.items m.number ms c

-- The newest item is the one that is counted last.
newest_of : (i : ℕ) (is js : List Item) → NewestItem i is → Counted (is ++ js) → length (is ++ js) ≡ suc i
newest_of i [] js w c = absurd w
newest_of i (j ∷ is) js w c = let e = c.0 in omega (arith, e, w)

pub newest_counted : (m i : ℕ) (ms : List Master) → Newest m i ms → Counted (items_of ms) → height ms ≡ suc i
newest_counted m i [] w c = absurd w
newest_counted m i (n ∷ ns) w c = height_is (n ∷ ns) ∙ newest_of i n.items (items_of ns) w.1 c

-- Masters keep their numbers as their items change.
pub entered_owning : (n : ℕ) (i : Item) (ms : List Master) → Entered n ms → Entered n (owning i ms)
entered_owning n i [] e = e
entered_owning n i (m ∷ ms) e = e

pub entered_shorter : (n : ℕ) (ms : List Master) → Entered n ms → Entered n (shorter ms)
entered_shorter n [] e = e
entered_shorter n (m ∷ ms) e = e

pub entered_above : (n more : ℕ) (ms : List Master) → n ≤ more → Entered n ms → Entered more ms
entered_above n more [] le e = tt
entered_above n more (m ∷ ms) le e = let lt = e.0 in (omega (arith, le, lt), e.1)

pub entered_older : (n : ℕ) (ms : List Master) → Entered n ms → Entered n (older ms)
entered_older n [] e = e
entered_older n (m ∷ ms) e = let lt = e.0 in entered_above m.number n ms (omega (arith, lt)) e.1

pub innermost_below : (n m : ℕ) (ms : List Master) → Entered n ms → IsInnermost m ms → m < n
innermost_below n m [] e is = absurd is
innermost_below n m (x ∷ ms) e is = let lt = e.0 in omega (arith, lt, is)

pub not_owning : (m : ℕ) (i : Item) (ms : List Master) → NotEntered m ms → NotEntered m (owning i ms)
not_owning m i [] away = away
not_owning m i (n ∷ ns) away = away

pub not_shorter : (m : ℕ) (ms : List Master) → NotEntered m ms → NotEntered m (shorter ms)
not_shorter m [] away = away
not_shorter m (n ∷ ns) away = away

-- A master that is not entered is not the innermost one.
pub not_innermost : (m n : ℕ) (ms : List Master) → NotEntered m ms → IsInnermost n ms → m ≢ n
not_innermost m n [] away is = absurd is
not_innermost m n (x ∷ ms) away is = λ same. let ne = away.0 in omega (arith, ne, is, same)

-- What is above all masters is not entered.
pub not_above : (m : ℕ) (ms : List Master) → Entered m ms → NotEntered m ms
not_above m ms e = go m m ms (omega arith) e
  where
    go : (m n : ℕ) (ms : List Master) → n ≤ m → Entered n ms → NotEntered m ms
    go m n [] le e' = tt
    go m n (x ∷ ms) le e' = let lt = e'.0 in ((λ same. omega (arith, le, lt, same)), go m x.number ms (omega (arith, le, lt)) e'.1)

-- What the laws say of numbers.
below_all : (n : ℕ) (is : List Item) → length is ≤ n → Counted is → All (λ (j : Item). j.number < n) is
below_all n [] le c = All-nil (λ (j : Item). j.number < n)
below_all n (i ∷ is) le c = let e = c.0 in All-cons (λ (j : Item). j.number < n) i is (omega (arith, e, le)) (below_all n is (omega (arith, le)) c.1)

pub counted_fall : (is : List Item) → Counted is → AllPairs Falls is
counted_fall [] c = λ i j d lt short. absurd (omega (arith, short))
counted_fall (i ∷ is) c = let e = c.0 in AllPairs-cons Falls i is (below_all i.number is (omega (arith, e)) c.1) (counted_fall is c.1)

pub entered_below : (n : ℕ) (ms : List Master) → Entered n ms → All (IsBelow n) ms
entered_below n [] e = All-nil (IsBelow n)
entered_below n (m ∷ ms) e = let lt = e.0 in All-cons (IsBelow n) m ms lt (entered_below n ms (entered_above m.number n ms (omega (arith, lt)) e.1))

pub entered_fall : (n : ℕ) (ms : List Master) → Entered n ms → AllPairs MastersFall ms
entered_fall n [] e = λ i j d lt short. absurd (omega (arith, short))
entered_fall n (m ∷ ms) e = AllPairs-cons MastersFall m ms (entered_below m.number ms e.1) (entered_fall m.number ms e.1)
