-- Objects and their homes: words that are out have a home among the items, and each object whose words are out is in its collection or under way.

use Rattle.std.proofs.Common.{◌≡◌, ◌≢◌, ℕ, zero, suc, ◌<◌, ◌+◌, Bool, true, false, List, [], ◌∷◌, ◌++◌, length, map, refl, sym, ap, ◌⊎◌, inl, inr, arith}
use Rattle.std.specs.Prelude.{Some, ◌==◌, ◌&&◌, if◌then◌else◌}
use Rattle.std.specs.List.{slice_get, slice_set, slice_index_or}
use Rattle.std.proofs.lemmas.Bool.{eqb-true, eq-eqb}
use Rattle.ada_meaning.specs.declared.state.Id.{Id}
use Rattle.ada_meaning.specs.declared.state.Value.{Value}
use Rattle.ada_meaning.specs.declared.state.Value.TheVariants.{Null, Names}
use Rattle.ada_meaning.specs.declared.state.Stage.TheVariants.{Existing, Gone}
use Rattle.ada_meaning.specs.Heap.{PartState, Cell}
use Rattle.ada_meaning.specs.State.{Owned, Item, Master, height}
use Rattle.ada_meaning.specs.Step.{owning}
use Rattle.ada_meaning.specs.Named.{Object, object_at, new_object, parted, finished, returned, filled, treated, is_member, members_from, members}
use Rattle.ada_owners.specs.Places.{is_there}
use Rattle.ada_meaning.specs.Law.{items_of}
use Rattle.ada_sound.proofs.Objects.{more_get, set_get}
use Rattle.ada_sound.proofs.Items.{Counted, Houses, HasItem, counted_owning, has_owning}

-- An object is one of these.
abbrev pub IsUnder : List Id → Id → Type 0
IsUnder [] o = ⊥
IsUnder (p ∷ ps) o = (p ≡ o) ⊎ IsUnder ps o

-- An object is there, though its words are back: so it is in a state that stands for the real one, in which it has gone with its collection (7.6.1).
pub record HasDeparted (heap : List Object) (o : Id) (x : Object) : Type 0 where
  pub found : object_at heap o ≡ Some x
  pub there : is_there x.stage ≡ true
  pub back : x.out ≡ false

-- Of what is there the words are out.
abbrev pub AllOut : List Object → Type 0
AllOut heap = (o : Id) (x : Object) → object_at heap o ≡ Some x → is_there x.stage ≡ true → x.out ≡ true

-- So none has departed; and the words are out where none has.
pub none_departed : {X : Type 0} (heap : List Object) → AllOut heap → (o : Id) (x : Object) → HasDeparted heap o x → X
none_departed heap all o x departed =
    let out = all o x departed.found departed.there in
    let back = departed.back in
    absurd (cc (out, back))

pub all_out : (heap : List Object) → ((o : Id) (x : Object) → HasDeparted heap o x → ⊥) → AllOut heap
all_out heap none o x found there = by x.out refl
  where
    by : (b : Bool) → x.out ≡ b → x.out ≡ true
    by true out = out
    by false back = absurd (none o x (record { found = found; there = there; back = back }))

-- What is so of each object, where these are under way.
pub record Sane (under : List Id) (items : List Item) (o : Id) (x : Object) : Type 0 where
  pub back_unlisted : x.out ≡ false → x.listed ≡ false
  pub listed_exists : x.listed ≡ true → x.stage ≡ Existing
  pub there_exists : is_there x.stage ≡ true → x.stage ≡ Existing
  pub housed : x.out ≡ true → HasItem x.cell.home.item x.cell.access x.cell.home.pool items
  pub out_listed : x.out ≡ true → (x.listed ≡ true) ⊎ IsUnder under o

pub record Stored (under : List Id) (heap : List Object) (masters : List Master) : Type 0 where
  pub counted : Counted (items_of masters)
  pub sane : (o : Id) (x : Object) → object_at heap o ≡ Some x → Sane under (items_of masters) o x

-- A new object.
pub stored_new : {under : List Id} {heap : List Object} {masters : List Master} (cell : Cell Value) → HasItem cell.home.item cell.access cell.home.pool (items_of masters) → Stored under heap masters → Stored under (heap ++ new_object cell ∷ []) masters
stored_new {under} {heap} {masters} cell home s = record { counted = s.counted; sane = λ o x e. go o x (more_get heap (new_object cell) o.0 x e) }
  where
    go : (o : Id) (x : Object) → (slice_get heap o.0 ≡ Some x) ⊎ ((o.0 ≡ length heap) × (x ≡ new_object cell)) → Sane under (items_of masters) o x
    go o x (inl e) = s.sane o x e
    go o x (inr e) = rw (e.1) (record { back_unlisted = λ h. absurd (cc h); listed_exists = λ h. refl; there_exists = λ h. refl; housed = λ h. home; out_listed = λ h. inl refl })

-- One object changes.
pub stored_set : {under after : List Id} {heap : List Object} {masters : List Master} (o : Id) (y : Object) → Sane after (items_of masters) o y → ((p : Id) (z : Object) → p.0 ≢ o.0 → Sane under (items_of masters) p z → Sane after (items_of masters) p z) → Stored under heap masters → Stored after (slice_set heap o.0 y) masters
stored_set {under} {after} {heap} {masters} o y here other s = record { counted = s.counted; sane = λ p z e. go p z (set_get heap o.0 p.0 y z e) }
  where
    go : (p : Id) (z : Object) → ((p.0 ≡ o.0) × (z ≡ y)) ⊎ ((p.0 ≢ o.0) × (slice_get heap p.0 ≡ Some z)) → Sane after (items_of masters) p z
    go p z (inl e) = let same : p ≡ o = ap (λ n. record { 0 = n }) e.0 in rw (same, e.1) here
    go p z (inr e) = other p z e.0 (s.sane p z e.1)

-- It leaves its collection, and is under way then.
pub stored_part : {under : List Id} {heap : List Object} {masters : List Master} (o : Id) (x : Object) → object_at heap o ≡ Some x → Stored under heap masters → Stored (o ∷ under) (slice_set heap o.0 (parted x)) masters
stored_part {under} {heap} {masters} o x is s =
    let h = s.sane o x is in
    stored_set o (parted x)
    (record { back_unlisted = λ e. refl; listed_exists = λ e. absurd (cc e); there_exists = h.there_exists; housed = h.housed; out_listed = λ e. inr (inl refl) })
    (λ p z ne g. record { back_unlisted = g.back_unlisted; listed_exists = g.listed_exists; there_exists = g.there_exists; housed = g.housed; out_listed = λ e. elim (g.out_listed e) [ inl l ↦ inl l | inr n ↦ inr (inr n) ] })
    s

-- It ceases to exist.
pub stored_finish : {under : List Id} {heap : List Object} {masters : List Master} (o : Id) (x : Object) → object_at heap o ≡ Some x → Stored (o ∷ under) heap masters → Stored (o ∷ under) (slice_set heap o.0 (finished x)) masters
stored_finish {under} {heap} {masters} o x is s =
    let h = s.sane o x is in
    stored_set o (finished x)
    (record { back_unlisted = λ e. refl; listed_exists = λ e. absurd (cc e); there_exists = λ e. absurd (cc e); housed = h.housed; out_listed = λ e. inr (inl refl) })
    (λ p z ne g. g)
    s

-- Its words go back, and it is not under way then.
pub stored_back : {under : List Id} {heap : List Object} {masters : List Master} (o : Id) (x : Object) → object_at heap o ≡ Some x → x.stage ≡ Gone → Stored (o ∷ under) heap masters → Stored under (slice_set heap o.0 (returned x)) masters
stored_back {under} {heap} {masters} o x is gone s =
    let h = s.sane o x is in
    stored_set o (returned x)
    (record { back_unlisted = λ e. unlisted x.listed refl (h.listed_exists); listed_exists = h.listed_exists; there_exists = h.there_exists; housed = λ e. absurd (cc e); out_listed = λ e. absurd (cc e) })
    (λ p z ne g. record { back_unlisted = g.back_unlisted; listed_exists = g.listed_exists; there_exists = g.there_exists; housed = g.housed; out_listed = λ e. elim (g.out_listed e) [ inl l ↦ inl l | inr n ↦ inr (other p ne n) ] })
    s
  where
    unlisted : (b : Bool) → x.listed ≡ b → (x.listed ≡ true → x.stage ≡ Existing) → x.listed ≡ false
    unlisted true is exists = let there = exists is in absurd (cc (gone, there))
    unlisted false is exists = is

    other : (p : Id) → p.0 ≢ o.0 → IsUnder (o ∷ under) p → IsUnder under p
    other p ne (inl same) = absurd (ne (ap (λ (q : Id). q.0) (sym same)))
    other p ne (inr one) = one

-- A component of it gets another value.
pub stored_filled : {under : List Id} {heap : List Object} {masters : List Master} (o : Id) (x : Object) (c : ℕ) (v : Value) → object_at heap o ≡ Some x → Stored under heap masters → Stored under (slice_set heap o.0 (filled c v x)) masters
stored_filled {under} {heap} {masters} o x c v is s =
    let h = s.sane o x is in
    stored_set o (filled c v x)
    (record { back_unlisted = h.back_unlisted; listed_exists = h.listed_exists; there_exists = h.there_exists; housed = h.housed; out_listed = h.out_listed })
    (λ p z ne g. g)
    s

-- A controlled part of it changes (7.6).
pub stored_treated : {under : List Id} {heap : List Object} {masters : List Master} (change : PartState → PartState) (part : ℕ) (o : Id) (x : Object) → object_at heap o ≡ Some x → Stored under heap masters → Stored under (slice_set heap o.0 (treated change part x)) masters
stored_treated {under} {heap} {masters} change part o x is s =
    let h = s.sane o x is in
    stored_set o (treated change part x)
    (record { back_unlisted = h.back_unlisted; listed_exists = h.listed_exists; there_exists = h.there_exists; housed = h.housed; out_listed = h.out_listed })
    (λ p z ne g. g)
    s

-- One item more.
pub stored_owning : {under : List Id} {heap : List Object} {masters : List Master} (owned : Owned) → Stored under heap masters → Stored under heap (owning (record { number = height masters; owned = owned }) masters)
stored_owning {under} {heap} {masters} owned s = record {
  counted = counted_owning owned masters s.counted;
  sane = λ o x e. let h = s.sane o x e in record { back_unlisted = h.back_unlisted; listed_exists = h.listed_exists; there_exists = h.there_exists; housed = λ out. has_owning x.cell.home.item x.cell.access x.cell.home.pool (record { number = height masters; owned = owned }) masters (h.housed out); out_listed = h.out_listed };
}

-- What is there is in its collection, where no object is under way, and its words are out.
pub there_listed : {heap : List Object} {masters : List Master} (o : Id) (x : Object) → object_at heap o ≡ Some x → x.out ≡ true → Stored [] heap masters → x.listed ≡ true
there_listed o x is out s = elim ((s.sane o x is).out_listed out) [ inl listed ↦ listed | inr under ↦ absurd under ]

-- Members: each is in the collection of its home, and each that is in it is one.
abbrev pub EachId : (Id → Type 0) → List Id → Type 0
EachId P [] = Unit {0}
EachId P (o ∷ os) = P o × EachId P os

each_append : (P : Id → Type 0) (os ps : List Id) → EachId P os → EachId P ps → EachId P (os ++ ps)
each_append P [] ps h g = g
each_append P (o ∷ os) ps h g = (h.0, each_append P os ps h.1 g)

each_map : (P Q : Id → Type 0) (os : List Id) → ((o : Id) → P o → Q o) → EachId P os → EachId Q os
each_map P Q [] f h = h
each_map P Q (o ∷ os) f h = (f o h.0, each_map P Q os f h.1)

and_true : (a b : Bool) → (a && b) ≡ true → (a ≡ true) × (b ≡ true)
and_true true b e = (refl, e)
and_true false b e = absurd (cc e)

-- This is a member, counted from a number.
abbrev IsMemberFrom : ℕ → ℕ → List Object → Id → Type 0
IsMemberFrom item n xs o = (k : ℕ) × (x : Object) × (o.0 ≡ n + k) × (slice_get xs k ≡ Some x) × (is_member item x ≡ true)

one_member : (item n : ℕ) (x : Object) (xs : List Object) (b : Bool) → is_member item x ≡ b → EachId (IsMemberFrom item n (x ∷ xs)) (if b then record { 0 = n } ∷ [] else [])
one_member item n x xs true e = ((zero, x, omega arith, refl, e), tt)
one_member item n x xs false e = tt

members_are : (item n : ℕ) (xs : List Object) → EachId (IsMemberFrom item n xs) (members_from item n xs)
members_are item n [] = tt
members_are item n (x ∷ xs) =
    each_append (IsMemberFrom item n (x ∷ xs)) (members_from item (suc n) xs) _
    (each_map (IsMemberFrom item (suc n) xs) (IsMemberFrom item n (x ∷ xs)) (members_from item (suc n) xs) (λ o h. (suc h.0, h.1, omega (arith, h.2), h.3, h.4)) (members_are item (suc n) xs))
    (one_member item n x xs (is_member item x) refl)

-- A member by its name.
pub record IsMember (item : ℕ) (heap : List Object) (o : Id) : Type 0 where
  pub object : Object
  pub found : object_at heap o ≡ Some object
  pub listed : object.listed ≡ true
  pub home : object.cell.home.item ≡ item

member_at : (item : ℕ) (heap : List Object) (o : Id) → IsMemberFrom item 0 heap o → IsMember item heap o
member_at item heap o (k, x, is, at', member) =
    let e : o.0 ≡ k = omega (arith, is) in
    let h = and_true x.listed (x.cell.home.item == item) member in
    record { object = x; found = rw e at'; listed = h.0; home = eqb-true x.cell.home.item item h.1 }

-- A value that is taken is a member's name.
abbrev pub IsTaken : ℕ → List Object → Value → Type 0
IsTaken item heap v = (o : Id) × (v ≡ Names o) × IsMember item heap o

taken_among : (item : ℕ) (heap : List Object) (os : List Id) (i : ℕ) → EachId (IsMemberFrom item 0 heap) os → i < length (map Names os) → IsTaken item heap (slice_index_or (map Names os) i Null)
taken_among item heap [] i h lt = absurd (omega (arith, lt))
taken_among item heap (o ∷ os) zero h lt = (o, refl, member_at item heap o h.0)
taken_among item heap (o ∷ os) (suc i) h lt = taken_among item heap os i h.1 (omega (arith, lt))

pub taken_is : (item : ℕ) (heap : List Object) (i : ℕ) → i < length (members heap item) → IsTaken item heap (slice_index_or (members heap item) i Null)
taken_is item heap i lt = taken_among item heap (members_from item 0 heap) i (members_are item 0 heap) lt

-- Where no member is left, no object is in the collection.
one_left : (item n : ℕ) (x : Object) → is_member item x ≡ true → (b : Bool) → is_member item x ≡ b → (os : List Id) → map Names (os ++ (if b then record { 0 = n } ∷ [] else [])) ≡ [] → ⊥
one_left item n x m true e [] none = cc none
one_left item n x m true e (o ∷ os) none = cc none
one_left item n x m false e os none = cc (m, e)

rest_left : (os ps : List Id) → map Names (os ++ ps) ≡ [] → map Names os ≡ []
rest_left [] ps none = refl
rest_left (o ∷ os) ps none = absurd (cc none)

none_from : (item n : ℕ) (xs : List Object) (k : ℕ) (x : Object) → map Names (members_from item n xs) ≡ [] → slice_get xs k ≡ Some x → is_member item x ≡ true → ⊥
none_from item n [] k x none is m = cc is
none_from item n (y ∷ xs) zero x none is m = let same : y ≡ x = cc is in one_left item n y (rw same m) (is_member item y) refl (members_from item (suc n) xs) none
none_from item n (y ∷ xs) (suc k) x none is m = none_from item (suc n) xs k x (rest_left (members_from item (suc n) xs) _ none) is m

pub none_is_left : (item : ℕ) (heap : List Object) (o : Id) (x : Object) → members heap item ≡ [] → object_at heap o ≡ Some x → x.listed ≡ true → x.cell.home.item ≡ item → ⊥
none_is_left item heap o x none is listed home = none_from item 0 heap o.0 x none is (rw (listed, home) (eq-eqb item item refl))

-- The newest item goes, where it has no member.
pub stored_shorter : {under : List Id} {heap : List Object} (m : Master) (item : Item) (items : List Item) (ms : List Master) → ((o : Id) (x : Object) → IsUnder under o → object_at heap o ≡ Some x → x.out ≡ true → x.cell.home.item ≡ item.number → ⊥) → ((o : Id) (x : Object) → object_at heap o ≡ Some x → x.listed ≡ true → Houses item.owned x.cell.access x.cell.home.pool → x.cell.home.item ≡ item.number → ⊥) → Stored under heap (record m { items = item ∷ items } ∷ ms) → Stored under heap (record m { items = items } ∷ ms)
stored_shorter {under} {heap} m item items ms apart none s = record {
  counted = s.counted.1;
  sane = λ o x e. let h = s.sane o x e in record {
    back_unlisted = h.back_unlisted;
    listed_exists = h.listed_exists;
    there_exists = h.there_exists;
    housed = λ out. rest o x e out (h.out_listed out) (h.housed out);
    out_listed = h.out_listed;
  };
}
  where
    rest : (o : Id) (x : Object) → object_at heap o ≡ Some x → x.out ≡ true → (x.listed ≡ true) ⊎ IsUnder under o → HasItem x.cell.home.item x.cell.access x.cell.home.pool (item ∷ (items ++ items_of ms)) → HasItem x.cell.home.item x.cell.access x.cell.home.pool (items ++ items_of ms)
    rest o x e out (inl l) (inl h) = absurd (none o x e l h.1 (sym h.0))
    rest o x e out (inl l) (inr h) = h
    rest o x e out (inr n) (inl h) = absurd (apart o x n e out (sym h.0))
    rest o x e out (inr n) (inr h) = h

-- The innermost master is entered, or goes, where it has no item.
pub stored_entered : {under : List Id} {heap : List Object} {ms : List Master} (number : ℕ) → Stored under heap ms → Stored under heap (record { number = number; items = [] } ∷ ms)
stored_entered number s = record { counted = s.counted; sane = s.sane }

pub stored_older : {under : List Id} {heap : List Object} (m : Master) (ms : List Master) → Stored under heap (record m { items = [] } ∷ ms) → Stored under heap ms
stored_older m ms s = record { counted = s.counted; sane = s.sane }

-- The words of an object that is in its collection are out.
pub listed_out : {under : List Id} {heap : List Object} {masters : List Master} (o : Id) (x : Object) → object_at heap o ≡ Some x → x.listed ≡ true → Stored under heap masters → x.out ≡ true
listed_out o x is listed s = go x.out refl
  where
    go : (b : Bool) → x.out ≡ b → x.out ≡ true
    go true e = e
    go false e = let none = (s.sane o x is).back_unlisted e in absurd (cc (none, listed))
