-- Behind a block its collections are gone: what is known of variables, and that a member that is taken has no owner.

use Rattle.std.proofs.Common.{◌≡◌, ◌≢◌, ℕ, zero, suc, Bool, true, false, ◌||◌, ◌&&◌, not, List, [], ◌∷◌, ◌++◌, refl, sym, ap, ◌∙◌, ◌⊎◌, inl, inr}
use Rattle.std.proofs.lemmas.Bool.{eq-eqb}
use Rattle.std.specs.Prelude.{Option, Some, None, if◌then◌else◌}
use Rattle.std.specs.List.{slice_get, slice_set, slice_index_or}
use Rattle.ada_program.specs.ProgramForm.{TypeForm, VariableForm}
use Rattle.ada_program.specs.WellFormed.{kind_among, access_of, is_this, reached_components}
use Rattle.ada_flow.specs.declared.rule.Hold.{Hold}
use Rattle.ada_flow.specs.declared.rule.Hold.TheVariants as hold
use Rattle.ada_flow.specs.Flow.{Holds, hold_at, variable_access, if_own, is_as_good, are_as_good, is_among, Gone, gone_with_both, without_types, without_variables, left}
use Rattle.ada_meaning.specs.declared.state.Id.{Id}
use Rattle.ada_meaning.specs.declared.state.Value.{Value}
use Rattle.ada_meaning.specs.declared.state.Value.TheVariants.{Null, Names}
use Rattle.ada_meaning.specs.State.{Item, Master, Owned}
use Rattle.ada_meaning.specs.Named.{Object, object_at}
use Rattle.ada_scopes.specs.Scopes.{is_declared_object, is_innermost, is_number_of}
use Rattle.ada_owners.specs.Places.{is_there, Place, variable, component, elsewhere, component_in, value_at, access_at}
use Rattle.ada_owners.specs.Reliance.{component_kind, IsOf, Says, Owns, Borrows, component_hold}
use Rattle.ada_owners.proofs.Ends.{IsUnnamed}
use Rattle.ada_sound.proofs.Fits.{IsReferred, IsUnreferred, Outsiders, Fit, IsRelied, outer_hold, hold_in, stacked, outer_value, outer_value_at, place_at, behind_all, some_ahead, sparing, kinds_of, lies_among, hand_is_unnamed}
use Rattle.ada_sound.proofs.Items.{HasItem, Houses}
use Rattle.ada_sound.proofs.Stored.{AllOut, IsUnder}
use Rattle.ada_sound.proofs.Orderings.{AsGood, as_good, good_here, good_lost, good_losing, good_to_lost}
use Rattle.ada_sound.proofs.Raising.{both}
use Rattle.ada_sound.proofs.Values.{read_other, same_or_not, lost_here}
use Rattle.ada_sound.proofs.Invariant.{AllAmong, NamesNone, departs}

-- What a variable holds behind a block: what it did, if it is of another access type; else it is lost.
abbrev LeftBy : Bool → (before after : Hold) → Type 0
LeftBy b before after = ((after ≡ before) × (b ≡ false)) ⊎ (after ≡ hold.Lost)

left_one : (b : Bool) (h : Hold) → LeftBy b h (if_own (not b) h)
left_one true h = inr refl
left_one false h = inl (refl, refl)

types_at : (variables : List VariableForm) (types : List ℕ) (holds : Holds) (x : ℕ) → LeftBy (is_among types (variable_access variables x)) (hold_at holds x) (hold_at (without_types variables types holds) x)
types_at [] types holds x = inr refl
types_at (v ∷ vs) types [] x = inr refl
types_at (v ∷ vs) types (h ∷ hs) zero = left_one (is_among types (access_of (Some v.kind))) h
types_at (v ∷ vs) types (h ∷ hs) (suc x) = types_at vs types hs x

-- Then the block's own variables are lost, too.
one_lost : (b : Bool) (before : Hold) (holds : Holds) (y x : ℕ) → LeftBy b before (hold_at holds x) → LeftBy b before (hold_at (slice_set holds y hold.Lost) x)
one_lost b before holds y x l = go (same_or_not x y)
  where
    go : (x ≡ y) ⊎ (x ≢ y) → LeftBy b before (hold_at (slice_set holds y hold.Lost) x)
    go (inl e) = inr (rw e (lost_here holds y))
    go (inr ne) = rw (read_other holds y x hold.Lost hold.Lost ne) l

variables_at : (b : Bool) (before : Hold) (xs : List ℕ) (holds : Holds) (x : ℕ) → LeftBy b before (hold_at holds x) → LeftBy b before (hold_at (without_variables xs holds) x)
variables_at b before [] holds x l = l
variables_at b before (y ∷ ys) holds x l = variables_at b before ys (slice_set holds y hold.Lost) x (one_lost b before holds y x l)

left_at : (variables : List VariableForm) (gone : Gone) (holds : Holds) (x : ℕ) → LeftBy (is_among gone.types (variable_access variables x)) (hold_at holds x) (hold_at (left variables gone holds) x)
left_at variables gone holds x =
    variables_at (is_among gone.types (variable_access variables x)) (hold_at holds x) gone.variables (without_types variables gone.types holds) x
    (types_at variables gone.types holds x)

good_left_by : (b : Bool) (before after : Hold) → LeftBy b before after → is_as_good before after ≡ true
good_left_by b before after (inl e) = rw (e.0) (good_here before)
good_left_by b before after (inr e) = rw e (good_lost before)

pub left_good : (variables : List VariableForm) (gone : Gone) (holds : Holds) → AsGood holds (left variables gone holds)
left_good variables gone holds x = good_left_by (is_among gone.types (variable_access variables x)) (hold_at holds x) (hold_at (left variables gone holds) x) (left_at variables gone holds x)

none_left_by : (b : Bool) (before after : Hold) → LeftBy b before after → IsRelied after → b ≡ false
none_left_by b before after (inl e) own = e.1
none_left_by b before after (inr e) own = absurd (rw e at own)

pub names_none : (variables : List VariableForm) (gone : Gone) (holds : Holds) → NamesNone variables gone.types (left variables gone holds)
names_none variables gone holds x own = none_left_by (is_among gone.types (variable_access variables x)) (hold_at holds x) (hold_at (left variables gone holds) x) (left_at variables gone holds x) own

-- Two blocks are left one after another.
among_append : (ts us : List ℕ) (access : Option ℕ) → is_among (ts ++ us) access ≡ (is_among ts access || is_among us access)
among_append [] us access = refl
among_append (t ∷ ts) us access = one (is_this t access) (is_among (ts ++ us) access) (is_among ts access) (is_among us access) (among_append ts us access)
  where
    one : (a b c d : Bool) → b ≡ (c || d) → (a || b) ≡ ((a || c) || d)
    one true b c d e = refl
    one false b c d e = e

own_twice : (a b : Bool) (h : Hold) → if_own (not (a || b)) h ≡ if_own (not b) (if_own (not a) h)
own_twice true true h = refl
own_twice true false h = refl
own_twice false true h = refl
own_twice false false h = refl

types_twice : (variables : List VariableForm) (ts us : List ℕ) (holds : Holds) → without_types variables (ts ++ us) holds ≡ without_types variables us (without_types variables ts holds)
types_twice [] ts us holds = refl
types_twice (v ∷ vs) ts us [] = refl
types_twice (v ∷ vs) ts us (h ∷ hs) =
    let access = access_of (Some v.kind) in
    rw (among_append ts us access, own_twice (is_among ts access) (is_among us access) h, types_twice vs ts us hs) refl

variables_twice : (xs ys : List ℕ) (holds : Holds) → without_variables (xs ++ ys) holds ≡ without_variables ys (without_variables xs holds)
variables_twice [] ys holds = refl
variables_twice (x ∷ xs) ys holds = variables_twice xs ys (slice_set holds x hold.Lost)

own_lost : (b : Bool) → if_own b hold.Lost ≡ hold.Lost
own_lost true = refl
own_lost false = refl

-- What is lost by its type or as a variable is lost in either order.
one_apart : (variables : List VariableForm) (types : List ℕ) (holds : Holds) (x : ℕ) → without_types variables types (slice_set holds x hold.Lost) ≡ slice_set (without_types variables types holds) x hold.Lost
one_apart [] types holds x = refl
one_apart (v ∷ vs) types [] x = refl
one_apart (v ∷ vs) types (h ∷ hs) zero = ap (λ g. g ∷ without_types vs types hs) (own_lost (not (is_among types (access_of (Some v.kind)))))
one_apart (v ∷ vs) types (h ∷ hs) (suc x) = ap (λ gs. if_own (not (is_among types (access_of (Some v.kind)))) h ∷ gs) (one_apart vs types hs x)

apart : (variables : List VariableForm) (types xs : List ℕ) (holds : Holds) → without_types variables types (without_variables xs holds) ≡ without_variables xs (without_types variables types holds)
apart variables types [] holds = refl
apart variables types (x ∷ xs) holds =
    apart variables types xs (slice_set holds x hold.Lost) ∙ ap (without_variables xs) (one_apart variables types holds x)

pub left_twice : (variables : List VariableForm) (inner outer : Gone) (holds : Holds) → left variables (gone_with_both inner outer) holds ≡ left variables outer (left variables inner holds)
left_twice variables inner outer holds =
    let kept = without_types variables inner.types holds in
    ap (without_variables (inner.variables ++ outer.variables)) (types_twice variables inner.types outer.types holds)
    ∙ (variables_twice inner.variables outer.variables (without_types variables outer.types kept)
    ∙ ap (without_variables outer.variables) (sym (apart variables outer.types inner.variables kept)))

-- What is left of less is less: by its type alone a variable is lost, or holds what it did.
types_keep : (variables : List VariableForm) (types : List ℕ) (x : ℕ) → (b : Bool) × ((holds : Holds) → hold_at (without_types variables types holds) x ≡ if_own b (hold_at holds x))
types_keep [] types x = (false, λ holds. refl)
types_keep (v ∷ vs) types zero = (not (is_among types (access_of (Some v.kind))), here)
  where
    here : (holds : Holds) → hold_at (without_types (v ∷ vs) types holds) zero ≡ if_own (not (is_among types (access_of (Some v.kind)))) (hold_at holds zero)
    here [] = sym (own_lost (not (is_among types (access_of (Some v.kind)))))
    here (h ∷ hs) = refl
types_keep (v ∷ vs) types (suc x) = later (types_keep vs types x)
  where
    later : (b : Bool) × ((holds : Holds) → hold_at (without_types vs types holds) x ≡ if_own b (hold_at holds x)) → (b : Bool) × ((holds : Holds) → hold_at (without_types (v ∷ vs) types holds) (suc x) ≡ if_own b (hold_at holds (suc x)))
    later (b, kept) = (b, on)
      where
        on : (holds : Holds) → hold_at (without_types (v ∷ vs) types holds) (suc x) ≡ if_own b (hold_at holds (suc x))
        on [] = sym (own_lost b)
        on (h ∷ hs) = kept hs

own_less : (b : Bool) (g h : Hold) → is_as_good g h ≡ true → is_as_good (if_own b g) (if_own b h) ≡ true
own_less true g h good = good
own_less false g h good = refl

types_less : (variables : List VariableForm) (types : List ℕ) (holds less : Holds) → AsGood holds less → AsGood (without_types variables types holds) (without_types variables types less)
types_less variables types holds less good x =
    let kept = types_keep variables types x in
    rw (kept.1 holds, kept.1 less) (own_less kept.0 (hold_at holds x) (hold_at less x) (good x))

variables_less : (xs : List ℕ) (holds less : Holds) → AsGood holds less → AsGood (without_variables xs holds) (without_variables xs less)
variables_less [] holds less good = good
variables_less (x ∷ xs) holds less good =
    variables_less xs (slice_set holds x hold.Lost) (slice_set less x hold.Lost)
    (good_losing x holds (slice_set less x hold.Lost) (lost_here less x) (good_to_lost x holds less good))

pub left_less : (variables : List VariableForm) (gone : Gone) (holds less : Holds) → AsGood holds less → AsGood (left variables gone holds) (left variables gone less)
left_less variables gone holds less good =
    variables_less gone.variables (without_types variables gone.types holds) (without_types variables gone.types less) (types_less variables gone.types holds less good)

-- It is as good where a variable is lost before whose record object goes with the block.
lost_type : (variables : List VariableForm) (types : List ℕ) (holds : Holds) (x : ℕ) → is_among types (variable_access variables x) ≡ true → hold_at (without_types variables types holds) x ≡ hold.Lost
lost_type variables types holds x among = elim (types_at variables types holds x) [ inl kept ↦ (let other = kept.1 in absurd (cc (among, other))) | inr lost ↦ lost ]

pub left_losing : (variables : List VariableForm) (gone : Gone) (holds : Holds) (x : ℕ) → is_among gone.types (variable_access variables x) ≡ true → AsGood (left variables gone (slice_set holds x hold.Lost)) (left variables gone holds)
left_losing variables gone holds x among =
    let kept = without_types variables gone.types holds in
    variables_less gone.variables (without_types variables gone.types (slice_set holds x hold.Lost)) kept
    (rw (one_apart variables gone.types holds x) (good_losing x kept kept (lost_type variables gone.types holds x among) (as_good kept)))

-- Flow compares each variable.
pub good_all : (holds other : Holds) → AsGood holds other → are_as_good holds other ≡ true
good_all holds [] good = refl
good_all [] (h ∷ hs) good = both (is_as_good hold.Lost h) (are_as_good [] hs) (good zero) (good_all [] hs (λ x. good (suc x)))
good_all (g ∷ gs) (h ∷ hs) good = both (is_as_good g h) (are_as_good gs hs) (good zero) (good_all gs hs (λ x. good (suc x)))

-- Types are among themselves.
among_here : (t : ℕ) (ts : List ℕ) → is_among (t ∷ ts) (Some t) ≡ true
among_here t ts = rw (eq-eqb t t refl) refl

among_more : (u : ℕ) (access : Option ℕ) (ts : List ℕ) → is_among ts access ≡ true → is_among (u ∷ ts) access ≡ true
among_more u access ts e = go (is_this u access) (is_among ts access) e
  where
    go : (a b : Bool) → b ≡ true → (a || b) ≡ true
    go true b h = refl
    go false b h = h

all_more : (ts us : List ℕ) (u : ℕ) → AllAmong ts us → AllAmong ts (u ∷ us)
all_more [] us u a = tt
all_more (t ∷ ts) us u a = (among_more u (Some t) us a.0, all_more ts us u a.1)

pub all_among : (ts : List ℕ) → AllAmong ts ts
all_among [] = tt
all_among (t ∷ ts) = (among_here t ts, all_more ts ts t (all_among ts))

-- A component of the one object names the other, and both are there.
abbrev pub HoldsThere : List Object → (holder held : Object) → Type 0
HoldsThere heap holder held =
    (o : Id) × (p : Id) × (c : ℕ) × ((object_at heap o ≡ Some holder) × (is_there holder.stage ≡ true)) × ((object_at heap p ≡ Some held) × (is_there held.stage ≡ true))
    × (slice_get holder.cell.values c ≡ Some (Names p))

-- While a master is left, whatever object holds the name of one whose words are out, and whose home is an item of the innermost master, has its own home there.
abbrev pub HeldIn : List Object → List Master → Type 0
HeldIn heap ms =
    (holder held : Object) → HoldsThere heap holder held → held.out ≡ true → is_innermost ms held.cell.home.item ≡ true → is_innermost ms holder.cell.home.item ≡ true

-- What a list holds that is a name.
pub get_named : (vs : List Value) (c : ℕ) (o : Id) → slice_index_or vs c Null ≡ Names o → slice_get vs c ≡ Some (Names o)
get_named [] c o e = absurd (cc e)
get_named (v ∷ vs) zero o e = ap Some e
get_named (v ∷ vs) (suc c) o e = get_named vs c o e

pub there_names : (b : Bool) (v : Value) (o : Id) → (if b then v else Null) ≡ Names o → (b ≡ true) × (v ≡ Names o)
there_names true v o e = (refl, e)
there_names false v o e = absurd (cc e)

-- What owns, and what borrows, is relied on.
pub owns_relied : (h : Hold) → Owns h → IsRelied h
owns_relied hold.Null a = a
owns_relied (hold.Kept r) a = a
owns_relied (hold.Own r) a = a
owns_relied (hold.Alias r) a = tt
owns_relied hold.Lost a = a

pub borrows_relied : (h : Hold) → Borrows h → IsRelied h
borrows_relied hold.Null a = a
borrows_relied (hold.Kept r) a = tt
borrows_relied (hold.Own r) a = tt
borrows_relied (hold.Alias r) a = a
borrows_relied hold.Lost a = a

says_of : (heap : List Object) (h : Hold) (kind : Option ℕ) (o : Id) → IsRelied h → Says (access_at heap) h kind o → IsOf (access_at heap) kind o
says_of heap hold.Null kind o a s = absurd a
says_of heap (hold.Kept r) kind o a s = s
says_of heap (hold.Own r) kind o a s = s
says_of heap (hold.Alias r) kind o a s = s
says_of heap hold.Lost kind o a s = absurd a

pub component_borrows : (b : Bool) → Borrows (component_hold b) → ⊥
component_borrows true b = b
component_borrows false b = b

-- No objects whose home is one of these items have a component of an access type.
abbrev pub HoldNone : List TypeForm → (access : ℕ) → List Item → Type 0
HoldNone types t [] = Unit {0}
HoldNone types t (i ∷ is) =
    ((v : ℕ) (pool : Option ℕ) → Houses i.owned v pool → (c : ℕ) → access_of (kind_among (reached_components types v) c) ≡ Some t → ⊥) × HoldNone types t is

-- The newest item, which is a declared object, goes: no objects have a component of the type of its own one.
abbrev pub NamesNoObject : List TypeForm → Item → Type 0
NamesNoObject types item =
    is_declared_object item.owned ≡ true → (access : ℕ) (pool : Option ℕ) → Houses item.owned access pool
    → (v c : ℕ) → access_of (kind_among (reached_components types v) c) ≡ Some access → ⊥

-- So it is with the newest one of these items, if there is one; and if that is no declared object, the words of all that is there are out.
abbrev pub GoesWell : List TypeForm → List Object → List Item → Type 0
GoesWell types heap [] = Unit {0}
GoesWell types heap (i ∷ is) = NamesNoObject types i × (is_declared_object i.owned ≡ false → AllOut heap)

-- What a variable of a suspended activation is relied on to name, what a call refers to, and what is under way has no home in the innermost master, if its words
-- are out.
abbrev pub NamedBelow : Outsiders → List Object → List Master → Type 0
NamedBelow outer heap ms =
    ((d x : ℕ) (o : Id) (object : Object) → IsRelied (outer_hold (slice_get outer.suspended d) x) → outer_value (slice_get outer.suspended d) x ≡ Names o
    → object_at heap o ≡ Some object → object.out ≡ true → is_innermost ms object.cell.home.item ≡ true → ⊥)
    × ((o : Id) (t : ℕ) (object : Object) → IsReferred outer.referenced o t → object_at heap o ≡ Some object → object.out ≡ true
    → is_innermost ms object.cell.home.item ≡ true → ⊥)
    × ((o : Id) (object : Object) → IsUnder outer.under o → object_at heap o ≡ Some object → object.out ≡ true → is_innermost ms object.cell.home.item ≡ true → ⊥)

-- What has its home there has no component of that access type.
pub none_held : (types : List TypeForm) (t n v : ℕ) (pool : Option ℕ) (is : List Item) → HoldNone types t is → HasItem n v pool is
    → (c : ℕ) → access_of (kind_among (reached_components types v) c) ≡ Some t → ⊥
none_held types t n v pool [] none has c is' = has
none_held types t n v pool (i ∷ is) none (inl e) c is' = none.0 v pool e.1 c is'
none_held types t n v pool (i ∷ is) none (inr has) c is' = none_held types t n v pool is none.1 has c is'

-- A member of the newest item of the innermost master, of a type of which no variable is relied on to name an object, is in hand where nothing relies on the
-- components of what lies in that master's collections, once no operation is called for any of it that touches storage.
module _ (ahead : Owned → Bool) (types : List TypeForm) (variables : List VariableForm) (outer : Outsiders) (heap : List Object) (places : List Value) (holds : Holds) (number : ℕ) (item : Item) (items : List Item) (ms : List Master) (gone : List ℕ) (fit : Fit types variables outer (sparing ahead heap (item ∷ items)) heap places holds) (none : NamesNone variables gone holds) (held : HeldIn heap (record { number = number; items = item ∷ items } ∷ ms)) (below : NamedBelow outer heap (record { number = number; items = item ∷ items } ∷ ms)) (o : Id) (x : Object) (found : object_at heap o ≡ Some x) (there : is_there x.stage ≡ true) (out : x.out ≡ true) (home : x.cell.home.item ≡ item.number) (among : is_among gone (Some x.cell.access) ≡ true)
    (houses : Houses item.owned x.cell.access x.cell.home.pool) (stays : departs ahead (item ∷ items) ≡ false) (well : GoesWell types heap (item ∷ items)) where
  access_here : access_at heap o ≡ Some x.cell.access
  access_here = rw (found, there) refl

  no_variable : (y : ℕ) (kind : Option ℕ) → variable_access variables y ≡ kind → IsRelied (hold_at holds y) → IsOf (access_at heap) kind o → ⊥
  no_variable y None is own of = of
  no_variable y (Some t) is own of =
      let apart = none y own in
      let here = access_here in
      absurd (cc (among, apart, is, of, here))

  -- A component that names it is not of another type.
  no_kind : (c : ℕ) (holder access : Option ℕ) → ((u : ℕ) → holder ≡ Some u → access_of (kind_among (reached_components types u) c) ≡ Some x.cell.access → ⊥)
      → component_kind (kinds_of types variables outer) holder c ≡ access → IsOf (access_at heap) access o → ⊥
  no_kind c None None none is of = of
  no_kind c None (Some t) none is of = cc is
  no_kind c (Some u) None none is of = of
  no_kind c (Some u) (Some t) none is of =
      let here = access_here in
      let same : t ≡ x.cell.access = cc (here, of) in
      none u refl (rw same at is)

  -- What owns it is relied on to name it.
  of_kind : (p : Id) (c : ℕ) → Owns (hold_in outer (sparing ahead heap (item ∷ items)) holds (component p c)) → component_in (object_at heap p) c ≡ Names o
      → IsOf (access_at heap) (component_kind (kinds_of types variables outer) (access_at heap p) c) o
  of_kind p c own names =
      let h = component_hold (sparing ahead heap (item ∷ items) p) in
      says_of heap h (component_kind (kinds_of types variables outer) (access_at heap p) c) o (owns_relied h own) (fit.owners.fit.relied (component p c) o names)

  -- Where it is no declared object, no operation is called for any of what lies in the master.
  all_behind : is_declared_object item.owned ≡ false → behind_all ahead (item ∷ items) ≡ item ∷ items
  all_behind collected = by (is_declared_object item.owned) collected (some_ahead ahead (item ∷ items)) refl stays
    where
      by : (object : Bool) → object ≡ false → (some : Bool) → some_ahead ahead (item ∷ items) ≡ some → (not object && some_ahead ahead (item ∷ items)) ≡ false
          → behind_all ahead (item ∷ items) ≡ item ∷ items
      by true never some is stays' = absurd (cc never)
      by false own true is stays' = absurd (let never : true ≡ false = rw is at stays' in cc never)
      by false own false is stays' = rw is refl

  -- An object that names it lies in the same master: so it does not count, or it has no component of that type.
  no_holder : (p : Id) (c : ℕ) (t : Option Object) → object_at heap p ≡ t
      → Owns (component_hold (lies_among t (behind_all ahead (item ∷ items)))) → component_in t c ≡ Names o
      → IsOf (access_at heap) (component_kind (kinds_of types variables outer) (access_at heap p) c) o → ⊥
  no_holder p c None at own names of = cc names
  no_holder p c (Some holder) at own names of = by (is_declared_object item.owned) refl
    where
      it : (is_there holder.stage ≡ true) × (slice_index_or holder.cell.values c Null ≡ Names o)
      it = there_names (is_there holder.stage) (slice_index_or holder.cell.values c Null) o names

      inside : is_number_of (item ∷ items) holder.cell.home.item ≡ true
      inside = held holder x (p, o, c, (at, it.0), (found, there), get_named holder.cell.values c o it.1) out (rw (eq-eqb item.number x.cell.home.item (sym home)) refl)

      by : (object : Bool) → is_declared_object item.owned ≡ object → ⊥
      by true declared_so =
          no_kind c (access_at heap p) (component_kind (kinds_of types variables outer) (access_at heap p) c)
          (λ u is named. well.0 declared_so x.cell.access x.cell.home.pool houses u c named) refl of
      by false collected =
          let out_so = well.1 collected p holder at it.0 in
          let lies : lies_among (Some holder) (behind_all ahead (item ∷ items)) ≡ true = rw (all_behind collected, out_so) inside in
          rw lies at own

  no_name : (y : ℕ) → IsRelied (hold_at holds y) → place_at places y ≡ Names o → ⊥
  no_name y is names =
      no_variable y (variable_access variables y) refl is
      (says_of heap (hold_at holds y) (variable_access variables y) o is (fit.owners.fit.relied (variable y) o names))

  -- Nor does a suspended activation's variable name it.
  no_elsewhere : (d y : ℕ) → IsRelied (outer_hold (slice_get outer.suspended d) y) → value_at heap (stacked places outer) (elsewhere d y) ≡ Names o → ⊥
  no_elsewhere d y is names =
      below.0 d y o x is (sym (outer_value_at heap places outer d y) ∙ names) found out (rw (eq-eqb item.number x.cell.home.item (sym home)) refl)

  no_borrower : (q : Place) → Borrows (hold_in outer (sparing ahead heap (item ∷ items)) holds q) → value_at heap (stacked places outer) q ≡ Names o → ⊥
  no_borrower (variable y) b names = no_name y (borrows_relied (hold_at holds y) b) names
  no_borrower (component p c) b names = component_borrows (sparing ahead heap (item ∷ items) p) b
  no_borrower (elsewhere d y) b names = no_elsewhere d y (borrows_relied (outer_hold (slice_get outer.suspended d) y) b) names

  no_owner : (q : Place) → Owns (hold_in outer (sparing ahead heap (item ∷ items)) holds q) → value_at heap (stacked places outer) q ≡ Names o → ⊥
  no_owner (variable y) own names = no_name y (owns_relied (hold_at holds y) own) names
  no_owner (component p c) own names = no_holder p c (object_at heap p) refl own names (of_kind p c own names)
  no_owner (elsewhere d y) own names = no_elsewhere d y (owns_relied (outer_hold (slice_get outer.suspended d) y) own) names

  pub taken_unnamed : IsUnnamed heap (stacked places outer) (hold_in outer (sparing ahead heap (item ∷ items)) holds) o
  taken_unnamed = hand_is_unnamed outer types variables (sparing ahead heap (item ∷ items)) heap places holds (Some x.cell.access) o (record {
    hand = record {
      right = λ p e. let same : o ≡ p = name_is o p e in rw (← same) access_here;
      free = λ p e q own names. let same : o ≡ p = name_is o p e in no_owner q own (rw (← same) at names);
    };
  }) no_borrower
    where
      name_is : (p q : Id) → Names p ≡ Names q → p ≡ q
      name_is p q e = cc e

  -- No call refers to it.
  pub taken_unreferred : IsUnreferred outer o
  taken_unreferred t is = below.1 o t x is found out (rw (eq-eqb item.number x.cell.home.item (sym home)) refl)
