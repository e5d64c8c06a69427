-- Collections have gone, whose members went one after another while components of others named them (7.6.1): once operations are called for none of what is left of the
-- master that touch storage, no place is relied on to name one of them.

use Rattle.std.proofs.Common.{◌≡◌, ◌≤◌, ℕ, suc, Bool, true, false, ◌||◌, List, [], ◌∷◌, ◌++◌, refl, sym, ap, subst, ◌∙◌, ◌⊎◌, inl, inr, arith}
use Rattle.std.proofs.lemmas.Bool.{cases_lt, eq-eqb}
use Rattle.std.specs.Prelude.{Option, Some, None, ◌==◌}
use Rattle.std.specs.List.{slice_get, slice_index_or}
use Rattle.ada_program.specs.ProgramForm.{TypeForm, VariableForm}
use Rattle.ada_flow.specs.declared.rule.Hold.{Hold}
use Rattle.ada_flow.specs.declared.rule.Hold.TheVariants as hold
use Rattle.ada_flow.specs.Flow.{Holds, hold_at, variable_access, is_among}
use Rattle.ada_meaning.specs.declared.state.Id.{Id}
use Rattle.ada_meaning.specs.declared.state.Value.{Value}
use Rattle.ada_meaning.specs.declared.state.Value.TheVariants.{Null, Names}
use Rattle.ada_meaning.specs.State.{Activation, Item, Master, Owned, declared, collection, record_object, storage_pool, height, type_housed}
use Rattle.ada_meaning.specs.Named.{Object, object_at}
use Rattle.ada_meaning.specs.Law.{items_of}
use Rattle.ada_owners.specs.Places.{Place, variable, component, elsewhere, is_there, component_in, value_at, access_in, access_at}
use Rattle.ada_owners.specs.Reliance.{IsOf, Says, Owns, Kinds, component_kind, kind_of, component_hold}
use Rattle.ada_owners.proofs.Kernel as kernel
use Rattle.ada_owners.proofs.Kernel.{of_same, says_same}
use Rattle.ada_owners.proofs.Objects.{present_at}
use Rattle.ada_scopes.specs.Scopes.{is_number_of}
use Rattle.ada_sound.proofs.Departing.{AreOfItem, IsDeparted, has_gone, revived}
use Rattle.ada_sound.proofs.DepartingBegins.{relied_kept}
use Rattle.ada_sound.proofs.Fits.{Outsiders, Fit, IsReferred, IsRelied, outer_hold, outer_value, outer_value_at, hold_in, stacked, place_at, none_spared, some_ahead, sparing, lies_among, kinds_of, component_access, component_is}
use Rattle.ada_sound.proofs.Invariant.{NamesLow, NamesNone, OwnedAmong}
use Rattle.ada_sound.proofs.Items.{HasItem, height_is, houses_type, newest_is}
use Rattle.ada_sound.proofs.Leavings.{HoldNone, get_named, there_names, none_held}
use Rattle.ada_sound.proofs.Stored.{AllOut, Sane, Stored}

-- A place that is not relied on says no more of one heap than of another.
says_unless : (access now : Id → Option ℕ) (h : Hold) (kind : Option ℕ) (o : Id) → (IsRelied h → ⊥) → Says access h kind o → Says now h kind o
says_unless access now hold.Null kind o none says = absurd says
says_unless access now (hold.Kept r) kind o none says = absurd (none tt)
says_unless access now (hold.Own r) kind o none says = absurd (none tt)
says_unless access now (hold.Alias r) kind o none says = absurd (none tt)
says_unless access now hold.Lost kind o none says = tt

-- What is of an access type is an object that is there.
of_present : (heap : List Object) (kind : Option ℕ) (o : Id) (x : Object) → object_at heap o ≡ Some x → IsOf (access_at heap) kind o → (kind ≡ Some x.cell.access) × (is_there x.stage ≡ true)
of_present heap None o x found of = absurd of
of_present heap (Some t) o x found of =
    let h = present_at heap o t of in
    let at = h.found in
    let same : h.object ≡ x = cc (at, found) in (
      ap Some (sym h.access ∙ ap (λ (y : Object). y.cell.access) same),
      subst (λ (y : Object). is_there y.stage ≡ true) same h.there,
    )

-- The type of what an item houses is among those of its rooms.
among_housed : (owned : Owned) (types : List ℕ) (access : ℕ) → OwnedAmong owned types → type_housed owned ≡ Some access → is_among types (Some access) ≡ true
among_housed (declared x) types access among houses = absurd (cc houses)
among_housed (collection t pool) types access among houses = let same : t ≡ access = cc houses in subst (λ (u : ℕ). is_among types (Some u) ≡ true) same among
among_housed (record_object t) types access among houses = let same : t ≡ access = cc houses in subst (λ (u : ℕ). is_among types (Some u) ≡ true) same among
among_housed (storage_pool declaration number) types access among houses = absurd (cc houses)

-- What is among the first items or the later ones; and the number of what is among some.
has_either : (n access : ℕ) (pool : Option ℕ) (is js : List Item) → HasItem n access pool (is ++ js) → HasItem n access pool is ⊎ HasItem n access pool js
has_either n access pool [] js has = inr has
has_either n access pool (i ∷ is) js (inl one) = inl (inl one)
has_either n access pool (i ∷ is) js (inr later) = elim (has_either n access pool is js later) [ inl first ↦ inl (inr first) | inr other ↦ inr other ]

has_number : (n access : ℕ) (pool : Option ℕ) (is : List Item) → HasItem n access pool is → is_number_of is n ≡ true
has_number n access pool [] has = absurd has
has_number n access pool (i ∷ is) (inl one) = rw (eq-eqb i.number n one.0) refl
has_number n access pool (i ∷ is) (inr later) = rw (has_number n access pool is later) (or_so (i.number == n))
  where
    or_so : (b : Bool) → (b || true) ≡ true
    or_so true = refl
    or_so false = refl

-- The objects of a master whose newest item has no member any more, and those as if the ones that have gone existed still; there nothing is spared.
module _ (types : List TypeForm) (variables : List VariableForm) (outer : Outsiders) (heap view : List Object) (places : List Value) (holds : Holds)
    (master item : ℕ) (owned : Owned) (items : List Item) (older : List Master) (gone : List ℕ) (ghosts : Id → Bool)
    (same : (o : Id) → ghosts o ≡ false → object_at view o ≡ object_at heap o)
    (departed : (o : Id) → ghosts o ≡ true → IsDeparted gone item (object_at heap o) (object_at view o))
    (here : AreOfItem item owned ghosts heap) (out : AllOut heap)
    (fit : Fit types variables outer none_spared view places holds) where
  abbrev newest : Item
  newest = record { number = item; owned = owned }

  abbrev masters : List Master
  masters = record { number = master; items = newest ∷ items } ∷ older

  abbrev shorter_masters : List Master
  shorter_masters = record { number = master; items = items } ∷ older

  -- What a variable is relied on to name has its home in an older item: the newest one is the home of objects alone that no variable is relied on to name.
  module _ {under : List Id} (stored : Stored under view masters) (among : List ℕ) (none : NamesNone variables among holds) (is_among_them : OwnedAmong owned among) where
    -- The item houses objects of the type of what has its home there.
    housed_there : (o : Id) (x : Object) → object_at view o ≡ Some x → is_there x.stage ≡ true → x.cell.home.item ≡ item → type_housed owned ≡ Some x.cell.access
    housed_there o x found there home = by (ghosts o) refl
      where
        by : (b : Bool) → ghosts o ≡ b → type_housed owned ≡ Some x.cell.access
        by true is =
            let d = departed o is in
            let seen = d.is in
            let one : revived d.object ≡ x = cc (seen, found) in
            let at_home : d.object.cell.home.item ≡ item = ap (λ (y : Object). y.cell.home.item) one ∙ home in
            here o d.object is d.there at_home ∙ ap (λ (y : Object). Some y.cell.access) one
        by false is =
            let real = sym (same o is) ∙ found in
            let houses = (stored.sane o x found).housed (out o x real there) in
            houses_type owned x.cell.access x.cell.home.pool (newest_is x.cell.home.item x.cell.access x.cell.home.pool newest (items ++ items_of older) home stored.counted houses)

    pub low_behind : NamesLow view places masters holds → NamesLow view places shorter_masters holds
    low_behind low x o object relied names found =
        elim (cases_lt object.cell.home.item item) [ inl older_one ↦ omega (arith, older_one, number_is) | inr newer ↦ absurd (not_here (omega (arith, lower, number_is, newer))) ]
      where
        lower : suc object.cell.home.item ≤ height masters
        lower = low x o object relied names found

        number_is : item ≡ height shorter_masters
        number_is = stored.counted.0 ∙ sym (height_is shorter_masters)

        of : (variable_access variables x ≡ Some object.cell.access) × (is_there object.stage ≡ true)
        of = of_present view (variable_access variables x) o object found (kernel.right_at fit.owners.fit (variable x) (relied_kept (hold_at holds x) relied) o names)

        not_here : object.cell.home.item ≡ item → ⊥
        not_here home =
            let one = among_housed owned among object.cell.access is_among_them (housed_there o object found of.1 home) in
            let apart = none x relied in
            let kind = of.0 in
            cc (one, apart, kind)

  -- Nothing is under way, the newest item has no member, and variables are relied on to name what lies in older items; what is elsewhere lies there, too; nothing of outer
  -- masters has a component of a type that has lost members; and operations are called for none of what is left.
  module _ (ahead : Owned → Bool) (stored : Stored [] heap masters)
      (low : NamesLow view places shorter_masters holds)
      (low_elsewhere : (d x : ℕ) (o : Id) (object : Object) → IsRelied (outer_hold (slice_get outer.suspended d) x) → outer_value (slice_get outer.suspended d) x ≡ Names o
      → object_at view o ≡ Some object → suc object.cell.home.item ≤ item)
      (low_referred : (o : Id) (t : ℕ) (object : Object) → IsReferred outer.referenced o t → object_at view o ≡ Some object → suc object.cell.home.item ≤ item)
      (unheld : (t : ℕ) → has_gone gone t ≡ true → HoldNone types t (items_of older)) (none_ahead : some_ahead ahead items ≡ false)
      (left : (o : Id) (x : Object) → object_at heap o ≡ Some x → x.listed ≡ true → x.cell.home.item ≡ item → ⊥) where
    abbrev activations : List (Activation Value)
    activations = stacked places outer

    abbrev kinds : Kinds
    kinds = kinds_of types variables outer

    -- What has its home in an older item has not gone.
    unnamed_low : (k : Id) → ghosts k ≡ true → ((object : Object) → object_at view k ≡ Some object → suc object.cell.home.item ≤ item) → ⊥
    unnamed_low k is lies = let d = departed k is in let lower = lies (revived d.object) d.is in let newer = d.newer in omega (arith, lower, newer)

    unnamed_here : (x : ℕ) (k : Id) → ghosts k ≡ true → place_at places x ≡ Names k → IsRelied (hold_at holds x) → ⊥
    unnamed_here x k is names relied =
        let count = height_is shorter_masters in
        let number = stored.counted.0 in
        unnamed_low k is (λ object found. let lower = low x k object relied names found in omega (arith, lower, count, number))

    -- Nor does a variable of a suspended activation name one.
    unnamed_elsewhere : (d x : ℕ) (k : Id) → ghosts k ≡ true → value_at view activations (elsewhere d x) ≡ Names k → IsRelied (outer_hold (slice_get outer.suspended d) x) → ⊥
    unnamed_elsewhere d x k is names relied = unnamed_low k is (λ object found. low_elsewhere d x k object relied (sym (outer_value_at view places outer d x) ∙ names) found)

    -- A component that names something is one of an object that has not gone.
    plain_holder : (j : Id) (c : ℕ) (k : Id) → component_in (object_at heap j) c ≡ Names k → ghosts j ≡ false
    plain_holder j c k names = by (ghosts j) refl
      where
        by : (b : Bool) → ghosts j ≡ b → ghosts j ≡ false
        by true is =
            let d = departed j is in
            let nothing : component_in (object_at heap j) c ≡ Null = rw (d.there, d.gone) refl in
            absurd (cc (nothing, names))
        by false is = is

    -- The type of a component that names one is that of the object, which is there as if it existed still.
    kind_is : (kind : Option ℕ) (k : Id) (is : ghosts k ≡ true) → IsOf (access_at view) kind k → kind ≡ Some (departed k is).object.cell.access
    kind_is kind k is of = let d = departed k is in (of_present view kind k (revived d.object) d.is of).0

    -- An object whose component names one is no object of an outer master; and of what lies in this one the components are spared.
    unnamed_inside : (j : Id) (c : ℕ) (k : Id) → ghosts k ≡ true → ghosts j ≡ false → (t : Option Object) → object_at heap j ≡ t → lies_among t items ≡ false → component_in t c ≡ Names k → ⊥
    unnamed_inside j c k is plain None at away names = cc names
    unnamed_inside j c k is plain (Some holder) at away names = by (sane.housed is_out)
      where
        it : (is_there holder.stage ≡ true) × (slice_index_or holder.cell.values c Null ≡ Names k)
        it = there_names (is_there holder.stage) (slice_index_or holder.cell.values c Null) k names

        at_view : object_at view j ≡ Some holder
        at_view = same j plain ∙ at

        named : slice_get holder.cell.values c ≡ Some (Names k)
        named = get_named holder.cell.values c k it.1

        of_kind : component_access types holder c ≡ Some (departed k is).object.cell.access
        of_kind = kind_is (component_access types holder c) k is (component_is j holder c (Names k) k refl at_view it.0 named refl fit)

        is_out : holder.out ≡ true
        is_out = out j holder at it.0

        sane : Sane [] (items_of masters) j holder
        sane = stored.sane j holder at

        -- Its home is not among the items that are left, and so it is an item of an outer master.
        not_inside : is_number_of items holder.cell.home.item ≡ false
        not_inside = rw is_out at away

        by_home : HasItem holder.cell.home.item holder.cell.access holder.cell.home.pool items ⊎ HasItem holder.cell.home.item holder.cell.access holder.cell.home.pool (items_of older) → ⊥
        by_home (inl inside) = let never = has_number holder.cell.home.item holder.cell.access holder.cell.home.pool items inside in cc (never, not_inside)
        by_home (inr outside) =
            none_held types (departed k is).object.cell.access holder.cell.home.item holder.cell.access holder.cell.home.pool (items_of older)
            (unheld (departed k is).object.cell.access (departed k is).of_type) outside c of_kind

        by : HasItem holder.cell.home.item holder.cell.access holder.cell.home.pool (newest ∷ (items ++ items_of older)) → ⊥
        by (inl newest_one) = elim (sane.out_listed is_out) [ inl listed ↦ left j holder at listed (sym newest_one.0) | inr under ↦ absurd under ]
        by (inr later) = by_home (has_either holder.cell.home.item holder.cell.access holder.cell.home.pool items (items_of older) later)

    -- What is named now was named before.
    named_before : (p : Place) (k : Id) → value_at heap activations p ≡ Names k → value_at view activations p ≡ Names k
    named_before (variable x) k names = names
    named_before (component j c) k names = ap (λ (t : Option Object). component_in t c) (same j (plain_holder j c k names)) ∙ names
    named_before (elsewhere d x) k names = names

    -- What each place is relied on for holds still.
    component_says : (j : Id) (c : ℕ) (k : Id) → component_in (object_at heap j) c ≡ Names k → IsOf (access_at view) (component_kind kinds (access_at view j) c) k
        → (b : Bool) → lies_among (object_at heap j) items ≡ b → Says (access_at heap) (component_hold b) (component_kind kinds (access_at heap j) c) k
    component_says j c k names of true spared = tt
    component_says j c k names of false relied = by (ghosts k) refl
      where
        plain : ghosts j ≡ false
        plain = plain_holder j c k names

        by : (b : Bool) → ghosts k ≡ b → IsOf (access_at heap) (component_kind kinds (access_at heap j) c) k
        by true is = absurd (unnamed_inside j c k is plain (object_at heap j) refl relied names)
        by false is =
            let holder : access_at view j ≡ access_at heap j = ap access_in (same j plain) in
            of_same (access_at view) (access_at heap) (component_kind kinds (access_at heap j) c) k (ap access_in (sym (same k is))) (rw holder at of)

    -- All that lies in the items that are left is spared.
    spared_so : (j : Id) → sparing ahead heap items j ≡ lies_among (object_at heap j) items
    spared_so j = rw none_ahead refl

    still_says : (p : Place) (k : Id) → value_at heap activations p ≡ Names k → Says (access_at view) (hold_in outer none_spared holds p) (kind_of kinds (access_at view) p) k
        → Says (access_at heap) (hold_in outer (sparing ahead heap items) holds p) (kind_of kinds (access_at heap) p) k
    still_says (variable x) k names says = by (ghosts k) refl
      where
        by : (b : Bool) → ghosts k ≡ b → Says (access_at heap) (hold_at holds x) (variable_access variables x) k
        by true is = says_unless (access_at view) (access_at heap) (hold_at holds x) (variable_access variables x) k (unnamed_here x k is names) says
        by false is = says_same (access_at view) (access_at heap) (hold_at holds x) (variable_access variables x) k (ap access_in (sym (same k is))) says
    still_says (component j c) k names says =
        rw (spared_so j) (component_says j c k names says (lies_among (object_at heap j) items) refl)
    still_says (elsewhere d x) k names says = by (ghosts k) refl
      where
        by : (b : Bool) → ghosts k ≡ b → Says (access_at heap) (outer_hold (slice_get outer.suspended d) x) (kinds.outer d x) k
        by true is = says_unless (access_at view) (access_at heap) (outer_hold (slice_get outer.suspended d) x) (kinds.outer d x) k (unnamed_elsewhere d x k is names) says
        by false is = says_same (access_at view) (access_at heap) (outer_hold (slice_get outer.suspended d) x) (kinds.outer d x) k (ap access_in (sym (same k is))) says

    -- What owns now owned before.
    owned_before : (p : Place) (k : Id) → value_at heap activations p ≡ Names k → Owns (hold_in outer (sparing ahead heap items) holds p) → Owns (hold_in outer none_spared holds p)
    owned_before (variable x) k names own = own
    owned_before (component j c) k names own = tt
    owned_before (elsewhere d x) k names own = own

    -- No call refers to one that has gone.
    still_referred : (o : Id) (t : ℕ) → IsReferred outer.referenced o t → access_at heap o ≡ Some t
    still_referred o t refers = by (ghosts o) refl
      where
        by : (b : Bool) → ghosts o ≡ b → access_at heap o ≡ Some t
        by true is = absurd (unnamed_low o is (λ object found. low_referred o t object refers found))
        by false is = ap access_in (sym (same o is)) ∙ fit.referred o t refers

    -- All places are as they are relied on to be, where the item has gone.
    pub departed_fit : Fit types variables outer (sparing ahead heap items) heap places holds
    departed_fit = record {
      owners = record {
        fit = kernel.seen_from fit.owners.fit (access_at heap) (value_at heap activations) (hold_in outer (sparing ahead heap items) holds) (kind_of kinds (access_at heap)) (λ p. p)
            named_before still_says owned_before (λ p q o a b c d e. e);
      };
      said = fit.said;
      objects = fit.objects;
      referred = still_referred;
    }
