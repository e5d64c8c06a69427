-- What storage sees of what is left to do, where objects leave their places and join others, and where values of parts come to exist and end.

use Rattle.std.proofs.Common.{◌≡◌, ◌≢◌, ℕ, zero, suc, Bool, true, false, cond, List, [], ◌∷◌, map, refl, sym, ap, ◌∙◌, ◌⊎◌, inl, inr, subst, arith}
use Rattle.std.specs.Prelude.{◌==◌}
use Rattle.std.proofs.lemmas.Bool.Decides.{eqb_tells}
use Rattle.ada_program.specs.declared.program.TypeDefinition.{TypeDefinition}
use Rattle.ada_meaning.specs.declared.state.Value.{Value}
use Rattle.ada_meaning.specs.Frame.{Frame, is_master}
use Rattle.ada_meaning.specs.Frame as frame
use Rattle.ada_meaning.specs.State.{Activation, record_object, Item, Master}
use Rattle.ada_storage.specs.State.{Forest, bit, same, in_list, in_forest, in_forests, in_jobs, in_items, in_members, placed, listed, assigned, opens, items_open, parted, parted_item, joined, joined_item, joined_master}
use Rattle.ada_storage.specs.State as storage
use Rattle.ada_storage.proofs.Invariant.{Alive, Objects, alive_by, Fits}
use Rattle.ada_storage.proofs.Facts.{eq_self, eq_not, same_self}
use Rattle.ada_following.specs.Reading.{mode_seen}
use Rattle.ada_following.proofs.PartsLeft.{beside}
use Rattle.ada_following.proofs.Places.{NotIn, NotInMasters, ItemOnce, MasterOnce, Listing, Items, members_le, listed_le, Drops, Gains, items_drop, drops_single, items_off, items_unjoined, items_gain, open_not, open_once, cond_none, cond_same}
use Rattle.ada_following.proofs.Frames.{Control, IsCode, Over, same_one, turned, more, Static, but, Treating, frees, initializes, undoes, assigns, adjusts, before, placed_in, alive_behind, listing_behind, placed_before, listed_before, opens_before, parted_before, joined_before, fits_behind, Joining, as_item, as_member, IsActing, Waits, made, adjusted, freed, undone, assigned_to, failing, Reads, nothing, code, calls, enters, operates, treats_behind, leaves_behind}

-- Two numbers are the same, or not.
apart_of : (x o : ℕ) → same x o ≡ 0 → x ≢ o
apart_of x o z e = let self = same_self o in let one = ap (λ (y : ℕ). same y o) e in omega (arith, z, self, one)

-- User code stays user code.
acting_parted : (o : ℕ) (c : storage.Control) → IsActing c → IsActing (parted o c)
acting_parted o (storage.acts m k) is = tt
acting_parted o storage.stops is = absurd is
acting_parted o (storage.leaves m mode k) is = absurd is
acting_parted o (storage.finalizes m i x fs mode k) is = absurd is
acting_parted o (storage.frees n x fs k) is = absurd is
acting_parted o (storage.initializes x joins js done k) is = absurd is
acting_parted o (storage.undoes n x done k) is = absurd is
acting_parted o (storage.assigns n x f fs k) is = absurd is
acting_parted o (storage.adjusts x f js done k) is = absurd is

acting_joined : (a n o : ℕ) (c : storage.Control) → IsActing c → IsActing (joined a n o c)
acting_joined a n o (storage.acts m k) is = tt
acting_joined a n o storage.stops is = absurd is
acting_joined a n o (storage.leaves m mode k) is = absurd is
acting_joined a n o (storage.finalizes m i x fs mode k) is = absurd is
acting_joined a n o (storage.frees n2 x fs k) is = absurd is
acting_joined a n o (storage.initializes x joins js done k) is = absurd is
acting_joined a n o (storage.undoes n2 x done k) is = absurd is
acting_joined a n o (storage.assigns n2 x f fs k) is = absurd is
acting_joined a n o (storage.adjusts x f js done k) is = absurd is

-- Without an object.
pub but_here : (o : ℕ) (L : Listing) (i : ℕ) → but o L i o ≡ 0
but_here o L i = ap (λ (b : Bool). cond b 0 (L i o)) (eq_self o)

pub but_other : (o : ℕ) (L : Listing) (i x : ℕ) → x ≢ o → but o L i x ≡ L i x
but_other o L i x ne = ap (λ (b : Bool). cond b 0 (L i x)) (eq_not x o ne)

pub drops_but : (o : ℕ) (L : Listing) → Drops o L (but o L)
drops_but o L = record { rest = λ i x ne. but_other o L i x ne; none = λ i. but_here o L i }

drops_behind : (o : ℕ) (L K : Listing) → Drops o L K → (t : Treating) → Drops o (listing_behind L t) (listing_behind K t)
drops_behind o L K d (frees n x fs) = d
drops_behind o L K d (initializes x joins js done) = record {
  rest = λ i y ne. ap (λ (c : ℕ). cond (y == x) 0 c) (d.rest i y ne);
  none = λ i. ap (λ (c : ℕ). cond (o == x) 0 c) (d.none i) ∙ cond_none (o == x) 0 refl;
}
drops_behind o L K d (undoes n x done) = d
drops_behind o L K d (assigns n x f fs) = d
drops_behind o L K d (adjusts x f js done) = d

gains_behind : (o n : ℕ) (L K : Listing) → Gains o n L K → (t : Treating) → placed_in o t ≡ 0 → Gains o n (listing_behind L t) (listing_behind K t)
gains_behind o n L K g (frees m x fs) z = g
gains_behind o n L K g (initializes x joins js done) z =
    let ne = apart_of o x z in
    record {
      rest = λ i y ne. ap (λ (c : ℕ). cond (y == x) 0 c) (g.rest i y ne);
      off = λ i not. but_other x K i o ne ∙ g.off i not ∙ sym (but_other x L i o ne);
      on = but_other x K n o ne ∙ g.on ∙ ap suc (sym (but_other x L n o ne));
    }
gains_behind o n L K g (undoes m x done) z = g
gains_behind o n L K g (assigns m x f fs) z = g
gains_behind o n L K g (adjusts x f js done) z = g

-- Where an object joins does not depend on another one.
joining_drops : {ms : List Master} {joins : storage.Joins} (o x : ℕ) (L K : Listing) → Drops o L K → x ≢ o → Joining L x ms joins → Joining K x ms joins
joining_drops o x L K d ne (as_item a n t is ms one off below not) = as_item a n t is ms (drops_single o L K d n x ne one) (λ i not_n. d.rest i x ne ∙ off i not_n) below not
joining_drops o x L K d ne (as_member a n on off once) = as_member a n (d.rest n x ne ∙ on) (λ i not_n. d.rest i x ne ∙ off i not_n) once

-- The collection of a number is found in one of these masters, or the number is none of theirs.
abbrev pub OpenOrNot : (a n : ℕ) → List Master → Type 0
OpenOrNot a n ms = MasterOnce a n ms ⊎ NotInMasters n ms

first_other : (a b n m t : ℕ) (is : List Item) (ms : List Master) → OpenOrNot a n (record { number = b; items = record { number = m; owned = record_object t } ∷ is } ∷ ms) → m ≢ n
first_other a b n m t is ms (inl (inl (e, (inl once), rest))) = absurd once.1
first_other a b n m t is ms (inl (inl (e, (inr once), rest))) = once.0
first_other a b n m t is ms (inl (inr once)) = once.0.0
first_other a b n m t is ms (inr not) = not.0.0

joining_gains : {ms : List Master} {joins : storage.Joins} (a o n x : ℕ) (L K : Listing) → Gains o n L K → OpenOrNot a n ms → x ≢ o → Joining L x ms joins → Joining K x ms joins
joining_gains a o n x L K g found ne (as_item b m t is ms one off below not) =
    as_item b m t is ms singled (λ i not_m. g.rest i x ne ∙ off i not_m) below not
  where
    singled : (y : ℕ) → K m y ≡ same y x
    singled y = elim (eqb_tells y o) [
      | inl h ↦ (ap (K m) h.1 ∙ g.off m (first_other a b n m t is ms found) ∙ ap (L m) (sym h.1) ∙ one y)
      | inr h ↦ (g.rest m y h.1 ∙ one y)
    ]
joining_gains a o n x L K g found ne (as_member b m on off once) = as_member b m (g.rest m x ne ∙ on) (λ i not_m. g.rest i x ne ∙ off i not_m) once

-- A number that none of these items has.
master_unjoined : {L : Listing} {is : List Item} {js : List storage.Item} (a n o b : ℕ) → NotIn n is → Items L is js → joined_master a n o (record { number = b; items = js }) ≡ record { number = b; items = js }
master_unjoined {js = js} a n o b not items = ap (λ (ks : List storage.Item). record { number = b; items = ks }) (cond_same (b == a) (map (joined_item n o) js) js (items_unjoined n o not items))

-- An object joins.
items_join :
    {L : Listing} {is : List Item} {js : List storage.Item} (a n o b : ℕ) (K : Listing) → Gains o n L K → ((b ≡ a) × ItemOnce n is) ⊎ NotIn n is → Items L is js
    → Items K is (cond (b == a) (map (joined_item n o) js) js)
items_join {L} {is} {js} a n o b K g (inl here) items =
    let there : (b == a) ≡ true = ap (λ (x : ℕ). b == x) (sym here.0) ∙ eq_self b in
    subst (λ (c : Bool). Items K is (cond c (map (joined_item n o) js) js)) (sym there) (items_gain o n K g here.1 items)
items_join {L} {is} {js} a n o b K g (inr not) items =
    subst (λ (ks : List storage.Item). Items K is ks) (sym (cond_same (b == a) (map (joined_item n o) js) js (items_unjoined n o not items))) (items_off o n K g not items)

first_open : (a n : ℕ) (m : Master) (ms : List Master) → OpenOrNot a n (m ∷ ms) → ((suc m.number ≡ a) × ItemOnce n m.items) ⊎ NotIn n m.items
first_open a n m ms (inl (inl once)) = inl (once.0, once.1)
first_open a n m ms (inl (inr once)) = inr once.0
first_open a n m ms (inr not) = inr not.0

rest_open : (a n : ℕ) (m : Master) (ms : List Master) → OpenOrNot a n (m ∷ ms) → OpenOrNot a n ms
rest_open a n m ms (inl (inl once)) = inr once.2
rest_open a n m ms (inl (inr once)) = inl once.1
rest_open a n m ms (inr not) = inr not.1

opens_here : {L : Listing} {is : List Item} {js : List storage.Item} (a n b : ℕ) → b ≡ a → ItemOnce n is → Items L is js → cond (b == a) (items_open n js) 0 ≡ 1
opens_here {js = js} a n b e once items =
    let there : (b == a) ≡ true = ap (λ (x : ℕ). b == x) (sym e) ∙ eq_self b in
    ap (λ (c : Bool). cond c (items_open n js) 0) there ∙ open_once n once items

-- Parts of an object that has no place there have other values.
abbrev pub SameBut : ℕ → Alive → Alive → Type 0
SameBut o A B = (x q : ℕ) → x ≢ o → B x q ≡ A x q

same_behind : (o : ℕ) (A B : Alive) → SameBut o A B → (t : Treating) → SameBut o (alive_behind A t) (alive_behind B t)
same_behind o A B e (frees n y fs) = e
same_behind o A B e (initializes y joins js done) = e
same_behind o A B e (undoes n y done) = e
same_behind o A B e (assigns n y f fs) = λ x q ne. ap (λ (b : Bool). cond (x == y) (alive_by (in_forest q f) b) b) (e x q ne)
same_behind o A B e (adjusts y f js done) = λ x q ne. ap (λ (b : Bool). cond (x == y) (alive_by (in_forest q f) b) b) (e x q ne)

assigned_other : (A : Alive) (T : Objects) (o n y : ℕ) (f : Forest) (fs : List Forest) (k : storage.Control) → Fits A T (before (assigns n y f fs) k) → placed o k ≡ 0 → y ≢ o
assigned_other A T o n y f fs k fits z e = let some = fits.3 in let same_place = ap (λ (x : ℕ). placed x k) e in omega (arith, some, same_place, z)

-- What has a value has one once an assignment is done.
pub after_more : (b : Bool) (n : ℕ) (v : Bool) → v ≡ true → cond b (alive_by n v) v ≡ true
after_more true zero v e = e
after_more true (suc n) v e = refl
after_more false n v e = e

module _ {types : List TypeDefinition} {S : Static} where
  -- A treatment that waits, where an object leaves its place, joins another, or has other parts with values.
  waits_drop :
      {L : Listing} {A : Alive} {acts : List (Activation Value)} {ms : List Master} {k l : Control} {t : Treating} (o : ℕ) (K : Listing) → Drops o L K → placed_in o t ≡ 0
      → Waits types S L A acts ms k l t → Waits types S K A acts ms k l t
  waits_drop {L = L} o K d z (made x by done of part tasks jobs joins created has b is j) = made x by done of part tasks jobs joins created has b is (joining_drops o x.0 L K d (λ e. apart_of o x.0 z (sym e)) j)
  waits_drop o K d z (adjusted x n done of part tasks f jobs has b) = adjusted x n done of part tasks f jobs has b
  waits_drop o K d z (freed x n pool tasks left dead has none e is) = freed x n pool tasks left dead has none e is
  waits_drop o K d z (undone x n pool e done dead has none is) = undone x n pool e done dead has none is
  waits_drop o K d z (assigned_to x p us base t first count n last lasts tasks left dead has some none newest rec e is) = assigned_to x p us base t first count n last lasts tasks left dead has some none newest rec e is
  waits_drop o K d z (failing x p us base t first count n last lasts tasks parts left dead has some none newest rec lacks is) = failing x p us base t first count n last lasts tasks parts left dead has some none newest rec lacks is

  waits_gain :
      {L : Listing} {A : Alive} {acts : List (Activation Value)} {ms : List Master} {k l : Control} {t : Treating} (a o n : ℕ) (K : Listing) → Gains o n L K → OpenOrNot a n ms → placed_in o t ≡ 0
      → Waits types S L A acts ms k l t → Waits types S K A acts ms k l t
  waits_gain {L = L} a o n K g found z (made x by done of part tasks jobs joins created has b is j) = made x by done of part tasks jobs joins created has b is (joining_gains a o n x.0 L K g found (λ e. apart_of o x.0 z (sym e)) j)
  waits_gain a o n K g found z (adjusted x m done of part tasks f jobs has b) = adjusted x m done of part tasks f jobs has b
  waits_gain a o n K g found z (freed x m pool tasks left dead has none e is) = freed x m pool tasks left dead has none e is
  waits_gain a o n K g found z (undone x m pool e done dead has none is) = undone x m pool e done dead has none is
  waits_gain a o n K g found z (assigned_to x p us base t first count m last lasts tasks left dead has some none newest rec e is) = assigned_to x p us base t first count m last lasts tasks left dead has some none newest rec e is
  waits_gain a o n K g found z (failing x p us base t first count m last lasts tasks parts left dead has some none newest rec lacks is) = failing x p us base t first count m last lasts tasks parts left dead has some none newest rec lacks is

  -- An object leaves its collection, and has no other place.
  pub reads_drop :
      {w : Bool} {L : Listing} {A : Alive} {acts : List (Activation Value)} {k : Control} {ms : List Master} {c : storage.Control} (o : ℕ) (K : Listing) → Drops o L K → placed o c ≡ listed o c
      → Reads types S w L A acts k ms c → Reads types S w K A acts k ms (parted o c)
  reads_drop o K d e nothing = nothing
  reads_drop o K d e (code is rest) = code is (reads_drop o K d e rest)
  reads_drop o K d e (calls actuals references rest) = calls actuals references (reads_drop o K d e rest)
  reads_drop o K d e (enters f m {ms = ms} {js = js} {c = c} is items rest) =
      let a = members_le o js in
      let b = listed_le o c in
      enters f m is (items_drop o K d items (omega (arith, a, b, e))) (reads_drop o K d (omega (arith, a, b, e)) rest)
  reads_drop o K d e (operates rest) = operates (reads_drop o K d e rest)
  reads_drop {L = L} o K d e (treats_behind {c = c} t waits acting rest is) =
      let p = ap (placed o) is in
      let q = placed_before o t c in
      let r = ap (listed o) is in
      let u = listed_before o t c in
      let le = listed_le o c in
      treats_behind t (waits_drop o K d (omega (arith, p, q, r, u, le, e)) waits) (acting_parted o c acting)
      (reads_drop o (listing_behind K t) (drops_behind o L K d t) (omega (arith, p, q, r, u, le, e)) rest) (ap (parted o) is ∙ parted_before o t c)
  reads_drop o K d e (leaves_behind x i pool mode tasks left dead m {ms = ms} {js = js} {c = c} has none ends items rest is) =
      let a = members_le o js in
      let b = listed_le o c in
      leaves_behind x i pool mode tasks left dead m has none ends (items_drop o K d items (omega (arith, a, b, e))) (reads_drop o K d (omega (arith, a, b, e)) rest) is

  pub unjoined :
      {w : Bool} {L : Listing} {A : Alive} {acts : List (Activation Value)} {k : Control} {ms : List Master} {c : storage.Control} (a n o : ℕ) → NotInMasters n ms
      → Reads types S w L A acts k ms c → joined a n o c ≡ c
  unjoined a n o not nothing = refl
  unjoined a n o not (code is rest) = unjoined a n o not rest
  unjoined a n o not (calls actuals references rest) = unjoined a n o not rest
  unjoined a n o not (enters f m {ms = ms} {js = js} {c = c} is items rest) =
      ap (λ (M : storage.Master). storage.acts M (joined a n o c)) (master_unjoined a n o (suc m.number) not.0 items)
      ∙ ap (λ (l : storage.Control). storage.acts (record { number = suc m.number; items = js }) l) (unjoined a n o not.1 rest)
  unjoined a n o not (operates rest) = unjoined a n o not rest
  unjoined a n o not (treats_behind {c = c} t waits acting rest is) =
      ap (joined a n o) is ∙ joined_before a n o t c ∙ ap (before t) (unjoined a n o not rest) ∙ sym is
  unjoined a n o not (leaves_behind x i pool mode tasks left dead m {ms = ms} {js = js} {c = c} has none ends items rest is) =
      ap (λ (M : storage.Master). storage.finalizes M i x.0 left (mode_seen mode) (joined a n o c)) (master_unjoined a n o (suc m.number) not.0 items)
      ∙ ap (λ (l : storage.Control). storage.finalizes (record { number = suc m.number; items = js }) i x.0 left (mode_seen mode) l) (unjoined a n o not.1 rest)

  pub reads_join :
      {w : Bool} {L : Listing} {A : Alive} {acts : List (Activation Value)} {k : Control} {ms : List Master} {c : storage.Control} (a n o : ℕ) (K : Listing) → Gains o n L K → OpenOrNot a n ms
      → placed o c ≡ 0 → Reads types S w L A acts k ms c → Reads types S w K A acts k ms (joined a n o c)
  reads_join a n o K g found z nothing = nothing
  reads_join a n o K g found z (code is rest) = code is (reads_join a n o K g found z rest)
  reads_join a n o K g found z (calls actuals references rest) = calls actuals references (reads_join a n o K g found z rest)
  reads_join a n o K g found z (enters f m {ms = ms} is items rest) =
      enters f m is (items_join a n o (suc m.number) K g (first_open a n m ms found) items) (reads_join a n o K g (rest_open a n m ms found) (omega (arith, z)) rest)
  reads_join a n o K g found z (operates rest) = operates (reads_join a n o K g found z rest)
  reads_join {L = L} a n o K g found z (treats_behind {c = c} t waits acting rest is) =
      let p = ap (placed o) is in
      let q = placed_before o t c in
      let away : placed_in o t ≡ 0 = omega (arith, p, q, z) in
      treats_behind t (waits_gain a o n K g found away waits) (acting_joined a n o c acting)
      (reads_join a n o (listing_behind K t) (gains_behind o n L K g t away) found (omega (arith, p, q, z)) rest) (ap (joined a n o) is ∙ joined_before a n o t c)
  reads_join a n o K g found z (leaves_behind x i pool mode tasks left dead m {ms = ms} has none ends items rest is) =
      leaves_behind x i pool mode tasks left dead m has none ends (items_join a n o (suc m.number) K g (first_open a n m ms found) items) (reads_join a n o K g (rest_open a n m ms found) (omega (arith, z)) rest) is

  -- How many collections are found under a number.
  pub opens_not :
      {w : Bool} {L : Listing} {A : Alive} {acts : List (Activation Value)} {k : Control} {ms : List Master} {c : storage.Control} (a n : ℕ) → NotInMasters n ms → Reads types S w L A acts k ms c → opens a n c ≡ 0
  opens_not a n not nothing = refl
  opens_not a n not (code is rest) = opens_not a n not rest
  opens_not a n not (calls actuals references rest) = opens_not a n not rest
  opens_not a n not (enters f m {ms = ms} {js = js} is items rest) =
      let here = cond_none (suc m.number == a) (items_open n js) (open_not n not.0 items) in
      let behind = opens_not a n not.1 rest in
      omega (arith, here, behind)
  opens_not a n not (operates rest) = opens_not a n not rest
  opens_not a n not (treats_behind {c = c} t waits acting rest is) = ap (opens a n) is ∙ opens_before a n t c ∙ opens_not a n not rest
  opens_not a n not (leaves_behind x i pool mode tasks left dead m {ms = ms} {js = js} has none ends items rest is) =
      let here = cond_none (suc m.number == a) (items_open n js) (open_not n not.0 items) in
      let behind = opens_not a n not.1 rest in
      omega (arith, here, behind)

  pub opens_once :
      {w : Bool} {L : Listing} {A : Alive} {acts : List (Activation Value)} {k : Control} {ms : List Master} {c : storage.Control} (a n : ℕ) → MasterOnce a n ms → Reads types S w L A acts k ms c → opens a n c ≡ 1
  opens_once a n once nothing = absurd once
  opens_once a n once (code is rest) = opens_once a n once rest
  opens_once a n once (calls actuals references rest) = opens_once a n once rest
  opens_once a n (inl once) (enters f m is items rest) =
      let here = opens_here a n (suc m.number) once.0 once.1 items in let behind = opens_not a n once.2 rest in omega (arith, here, behind)
  opens_once a n (inr once) (enters f m {ms = ms} {js = js} is items rest) =
      let here = cond_none (suc m.number == a) (items_open n js) (open_not n once.0 items) in let behind = opens_once a n once.1 rest in omega (arith, here, behind)
  opens_once a n once (operates rest) = opens_once a n once rest
  opens_once a n once (treats_behind {c = c} t waits acting rest is) = ap (opens a n) is ∙ opens_before a n t c ∙ opens_once a n once rest
  opens_once a n (inl once) (leaves_behind x i pool mode tasks left dead m has none ends items rest is) =
      let here = opens_here a n (suc m.number) once.0 once.1 items in let behind = opens_not a n once.2 rest in omega (arith, here, behind)
  opens_once a n (inr once) (leaves_behind x i pool mode tasks left dead m {ms = ms} {js = js} has none ends items rest is) =
      let here = cond_none (suc m.number == a) (items_open n js) (open_not n once.0 items) in let behind = opens_once a n once.1 rest in omega (arith, here, behind)

  waits_alive :
      {L : Listing} {A : Alive} {acts : List (Activation Value)} {ms : List Master} {k l : Control} {t : Treating} (T : Objects) (o : ℕ) (B : Alive) (c : storage.Control) → SameBut o A B → Fits A T (before t c) → placed o c ≡ 0
      → Waits types S L A acts ms k l t → Waits types S L B acts ms k l t
  waits_alive T o B c kept fits z (made x by done of part tasks jobs joins created has b is j) = made x by done of part tasks jobs joins created has b is j
  waits_alive T o B c kept fits z (adjusted x n done of part tasks f jobs has b) = adjusted x n done of part tasks f jobs has b
  waits_alive T o B c kept fits z (freed x n pool tasks left dead has none e is) = freed x n pool tasks left dead has none e is
  waits_alive T o B c kept fits z (undone x n pool e done dead has none is) = undone x n pool e done dead has none is
  waits_alive T o B c kept fits z (assigned_to x p us base t first count n last lasts tasks left dead has some none newest rec e is) = assigned_to x p us base t first count n last lasts tasks left dead has some none newest rec e is
  waits_alive {A = A} T o B c kept fits z (failing x p us base t first count n last lasts tasks parts left dead has some none newest rec lacks is) =
      failing x p us base t first count n last lasts tasks parts left dead has some none newest rec
      (record {
        dead = lacks.dead;
        to_end = lacks.to_end;
        is_dead = lacks.is_dead;
        others = λ q to_end lives.
            lacks.others q to_end (sym (kept x.0 q (assigned_other A T o (suc n) x.0 (beside parts) (storage.none ∷ beside left ∷ []) c fits z)) ∙ lives);
      })
      is

  pub reads_alive :
      {w : Bool} {L : Listing} {A : Alive} {acts : List (Activation Value)} {k : Control} {ms : List Master} {c : storage.Control} (T : Objects) (o : ℕ) (B : Alive) → SameBut o A B → Fits A T c → placed o c ≡ 0
      → Reads types S w L A acts k ms c → Reads types S w L B acts k ms c
  reads_alive T o B kept fits z nothing = nothing
  reads_alive T o B kept fits z (code is rest) = code is (reads_alive T o B kept fits z rest)
  reads_alive T o B kept fits z (calls actuals references rest) = calls actuals references (reads_alive T o B kept fits z rest)
  reads_alive T o B kept fits z (enters f m is items rest) = enters f m is items (reads_alive T o B kept fits.2 (omega (arith, z)) rest)
  reads_alive T o B kept fits z (operates rest) = operates (reads_alive T o B kept fits z rest)
  reads_alive {A = A} T o B kept fits z (treats_behind {c = c} t waits acting rest is) =
      let p = ap (placed o) is in
      let q = placed_before o t c in
      let there : Fits A T (before t c) = subst (λ (d : storage.Control). Fits A T d) is fits in
      let none : placed o c ≡ 0 = omega (arith, p, q, z) in
      treats_behind t (waits_alive T o B c kept there none waits) acting (reads_alive T o (alive_behind B t) (same_behind o A B kept t) (fits_behind A T t c there) none rest) is
  reads_alive T o B kept fits z (leaves_behind x i pool mode tasks left dead m has none ends items rest is) =
      leaves_behind x i pool mode tasks left dead m has none ends items (reads_alive T o B kept fits.2.2 (omega (arith, z)) rest) is

-- More objects are known.
pub record Knows (S R : Static) : Type 0 where
  pub holds : (o p : ℕ) → S.holds o p ≡ true → R.holds o p ≡ true
  pub joins : (o p : ℕ) → S.holds o p ≡ true → (ms : List Master) → R.joins o ms ≡ S.joins o ms

module _ {types : List TypeDefinition} {S : Static} (R : Static) (knows : Knows S R) where
  waits_more :
      {L : Listing} {A : Alive} {acts : List (Activation Value)} {ms : List Master} {k l : Control} {t : Treating} → Waits types S L A acts ms k l t → Waits types R L A acts ms k l t
  waits_more {ms = ms} (made x by done of part tasks jobs joins created has b is j) = made x by done of part tasks jobs joins created (knows.holds x.0 part has) b (knows.joins x.0 part has ms ∙ is) j
  waits_more (adjusted x n done of part tasks f jobs has b) = adjusted x n done of part tasks f jobs (knows.holds x.0 part has) b
  waits_more (freed x n pool tasks left dead has none e is) = freed x n pool tasks left dead (knows.holds x.0 dead has) none e is
  waits_more (undone x n pool e done dead has none is) = undone x n pool e done dead (knows.holds x.0 dead has) none is
  waits_more (assigned_to x p us base t first count n last lasts tasks left dead has some none newest rec e is) = assigned_to x p us base t first count n last lasts tasks left dead (knows.holds x.0 dead has) some none newest rec e is
  waits_more (failing x p us base t first count n last lasts tasks parts left dead has some none newest rec lacks is) = failing x p us base t first count n last lasts tasks parts left dead (knows.holds x.0 dead has) some none newest rec lacks is

  pub reads_more :
      {w : Bool} {L : Listing} {A : Alive} {acts : List (Activation Value)} {k : Control} {ms : List Master} {c : storage.Control} → Reads types S w L A acts k ms c → Reads types R w L A acts k ms c
  reads_more nothing = nothing
  reads_more (code is rest) = code is (reads_more rest)
  reads_more (calls actuals references rest) = calls actuals references (reads_more rest)
  reads_more (enters f m is items rest) = enters f m is items (reads_more rest)
  reads_more (operates rest) = operates (reads_more rest)
  reads_more (treats_behind t waits acting rest is) = treats_behind t (waits_more waits) acting (reads_more rest) is
  reads_more (leaves_behind x i pool mode tasks left dead m has none ends items rest is) = leaves_behind x i pool mode tasks left dead m (knows.holds x.0 dead has) none ends items (reads_more rest) is

-- Code stands in a master.
never_acts : (t : Treating) (M : storage.Master) (l c : storage.Control) → storage.acts M l ≡ before t c → ⊥
never_acts (frees n o fs) M l c e = cc
never_acts (initializes o joins js done) M l c e = cc
never_acts (undoes n o done) M l c e = cc
never_acts (assigns n o f fs) M l c e = cc
never_acts (adjusts o f js done) M l c e = cc

no_code : {types : List TypeDefinition} {S : Static} {L : Listing} {A : Alive} {acts : List (Activation Value)} {k : Control} {ms : List Master} {M : storage.Master} {c : storage.Control} → Reads types S true L A acts k ms (storage.acts M c) → ⊥
no_code {M = M} {c = c} (treats_behind {c = d} t waits acting rest is) = never_acts t M c d is

-- The master in which code stands, which may come to own other items; and an object may be listed once more there.
pub record Acting (types : List TypeDefinition) (S : Static) (L : Listing) (A : Alive) (acts : List (Activation Value)) (k : Control) (m : Master) (ms : List Master) (M : storage.Master) (c : storage.Control) : Type 0 where
  pub js : List storage.Item
  pub seen : M ≡ record { number = suc m.number; items = js }
  pub items : Items L m.items js
  pub change :
      (is : List Item) (ks : List storage.Item) → Items L is ks
      → Reads types S false L A acts k (record { number = m.number; items = is } ∷ ms) (storage.acts (record { number = suc m.number; items = ks }) c)
  pub gain :
      (K : Listing) (o n : ℕ) → Gains o n L K → NotInMasters n ms → placed o c ≡ 0 → (is : List Item) (ks : List storage.Item) → Items K is ks
      → Reads types S false K A acts k (record { number = m.number; items = is } ∷ ms) (storage.acts (record { number = suc m.number; items = ks }) c)

pub acting :
    {types : List TypeDefinition} {S : Static} {L : Listing} {A : Alive} {acts : List (Activation Value)} {k : Control} {m : Master} {ms : List Master} {M : storage.Master} {c : storage.Control}
    → Reads types S false L A acts k (m ∷ ms) (storage.acts M c) → Acting types S L A acts k m ms M c
acting (code is rest) =
    let a = acting rest in
    record { js = a.js; seen = a.seen; items = a.items; change = λ js ks items. code is (a.change js ks items); gain = λ K o n g not z js ks items. code is (a.gain K o n g not z js ks items) }
acting (calls actuals references rest) =
    let a = acting rest in
    record {
      js = a.js;
      seen = a.seen;
      items = a.items;
      change = λ js ks items. calls actuals references (a.change js ks items);
      gain = λ K o n g not z js ks items. calls actuals references (a.gain K o n g not z js ks items);
    }
acting {types} {S} {L} {A} {acts} (enters f {k = k} m {ms = ms} {js = js} {c = c} is items rest) = record {
  js = js;
  seen = refl;
  items = items;
  change = λ is2 ks items2. enters f (record { number = m.number; items = is2 }) is items2 rest;
  gain = λ K o n g not z is2 ks items2.
      enters f (record { number = m.number; items = is2 }) is items2
      (subst (λ (d : storage.Control). Reads types S false K A acts k ms d) (unjoined 0 n o not rest) (reads_join 0 n o K g (inr not) z rest));
}
acting (operates rest) = absurd (no_code rest)

-- It stands in one.
pub none_acting : {types : List TypeDefinition} {S : Static} {L : Listing} {A : Alive} {acts : List (Activation Value)} {k : Control} {M : storage.Master} {c : storage.Control} → Reads types S false L A acts k [] (storage.acts M c) → ⊥
none_acting (code is rest) = none_acting rest
none_acting (calls actuals references rest) = none_acting rest
none_acting (operates rest) = no_code rest

-- Code in front.
turned_reads : {types : List TypeDefinition} {S : Static} {L : Listing} {A : Alive} {acts : List (Activation Value)} {k : Control} {ms : List Master} {M : storage.Master} {c : storage.Control} (f g : Frame Value) → is_master f ≡ true → is_master g ≡ true → Reads types S false L A acts (f ∷ k) ms (storage.acts M c) → Reads types S false L A acts (g ∷ k) ms (storage.acts M c)
turned_reads f g is_f is_g (code is rest) = absurd (no_master f is is_f)
  where
    no_master : (f : Frame Value) → IsCode f → is_master f ≡ true → ⊥
    no_master (frame.Elaborates ds fs hs) is e = is
    no_master frame.Closes is e = is
    no_master f is e = cc
turned_reads f g is_f is_g (calls actuals references rest) = absurd (cc is_f)
turned_reads f g is_f is_g (enters _ m is items rest) = enters g m is_g items rest
turned_reads f g is_f is_g (operates rest) = absurd (cc is_f)

pub over_reads : {types : List TypeDefinition} {S : Static} {L : Listing} {A : Alive} {acts : List (Activation Value)} {b l : Control} {ms : List Master} {M : storage.Master} {c : storage.Control} → Over b l → Reads types S false L A acts b ms (storage.acts M c) → Reads types S false L A acts l ms (storage.acts M c)
over_reads same_one r = r
over_reads {types} {S} {L} {A} {acts} {b} {l} {ms} {M} {c} (turned f g k is_f is_g is) r = turned_reads f g is_f is_g (subst (λ (b2 : Control). Reads types S false L A acts b2 ms (storage.acts M c)) is r)
over_reads (more is over) r = code is (over_reads over r)
