-- A frugal body leaves a master of its own, which owns variables, and record objects, where it may declare some (7.6.1): no component names an object whose
-- home is there.

use Rattle.std.proofs.Common.{◌≡◌, ℕ, Bool, true, false, not, ◌&&◌, List, [], ◌∷◌, ◌++◌, if◌then◌else◌, refl, sym, ap, ◌∙◌, inl, inr, arith}
use Rattle.std.proofs.lemmas.Bool.{and_parts, eqb-true}
use Rattle.std.specs.Prelude.{Option, Some, None, ◌==◌}
use Rattle.std.specs.List.{list_all}
use Rattle.ada_flow.specs.Flow.{Holds}
use Rattle.ada_program.specs.ProgramForm.{TypeForm}
use Rattle.ada_program.specs.WellFormed.{is_access, type_fits}
use Rattle.ada_meaning.specs.declared.state.Id.{Id}
use Rattle.ada_meaning.specs.declared.state.Mode.{Mode}
use Rattle.ada_meaning.specs.declared.state.Mode.TheVariants.{Running}
use Rattle.ada_meaning.specs.declared.state.Value.{Value}
use Rattle.ada_meaning.specs.declared.state.Value.TheVariants.{Null, Names, Scalar, Part}
use Rattle.ada_meaning.specs.declared.event.Cause.TheVariants.{Leaving}
use Rattle.ada_meaning.specs.Frame.{Confines, Ends, GivesBack, Leaves, Treatment, Treats, begins, ends}
use Rattle.ada_meaning.specs.Heap.{Home}
use Rattle.ada_meaning.specs.Law.{items_of}
use Rattle.ada_meaning.specs.State.{Owned, declared, collection, record_object, storage_pool, type_housed, Item, Master}
use Rattle.ada_meaning.specs.Named.{Object, object_at}
use Rattle.ada_meaning.specs.Step.{treating}
use Rattle.ada_parts.specs.Task.{Task}
use Rattle.ada_owners.specs.Places.{access_at}
use Rattle.ada_owners.specs.Reliance.{IsOf}
use Rattle.ada_scopes.specs.Scopes.{is_declared_object, is_number_of, is_innermost}
use Rattle.ada_scopes.proofs.Homes.{ItemsFit, OwnedFits, fit_before}
use Rattle.ada_tracked.specs.Law.{InnermostHousesNone, NewestHousesNone}
use Rattle.ada_sound.proofs.Allowance.{Allowance}
use Rattle.ada_sound.proofs.Fits.{access_is, component_access, component_is, behind_all, some_ahead, lies_among, sparing}
use Rattle.ada_sound.proofs.FrugalControl.{AreOwnedBy, Frugal, FrugalLeads, FrugalLeaves, FrugalOperated, IsOwnedBy}
use Rattle.ada_sound.proofs.FrugalFrees.{accepted_access}
use Rattle.ada_sound.proofs.Invariant.{Control, EndingBy, Known, LeavesTo, Parting, ReadyIn, Rooms, ThenBack, departs, departs_next, innermost}
use Rattle.ada_sound.proofs.Items.{Counted, HasItem, Houses, item_below}
use Rattle.ada_sound.proofs.InOrder.{component_is_access}
use Rattle.ada_sound.proofs.Leavings.{GoesWell, HeldIn}
use Rattle.ada_sound.proofs.Operating.{AreVariables, IsVariable}
use Rattle.ada_sound.proofs.Stored.{Stored}

-- An object whose home is among such items is a record object, and its type is no access type.
abbrev IsDeclared : Allowance → List TypeForm → (access : ℕ) → Type 0
IsDeclared allowance types access = (allowance.objects ≡ true) × (is_access types access ≡ false)

module _ (allowance : Allowance) (types : List TypeForm) where
  housed_declared : (owned : Owned) (access : ℕ) (pool : Option ℕ) → IsOwnedBy allowance owned → OwnedFits types owned → Houses owned access pool → IsDeclared allowance types access
  housed_declared (declared x) access pool own fits houses = absurd houses
  housed_declared (collection t from) access pool own fits houses = absurd own
  housed_declared (record_object t) access pool own fits houses = let same = houses.0 in (own, rw (← same) fits)
  housed_declared (storage_pool declaration number) access pool own fits houses = absurd own

  -- An older item has another number.
  home_declared :
      (is js : List Item) (n access : ℕ) (pool : Option ℕ) → AreOwnedBy allowance is → ItemsFit types (is ++ js) → Counted (is ++ js) → is_number_of is n ≡ true
      → HasItem n access pool (is ++ js) → IsDeclared allowance types access
  home_declared [] js n access pool own fits counted among has = absurd (cc among)
  home_declared (i ∷ is) js n access pool own fits counted among (inl here) = housed_declared i.owned access pool own.0 fits.0 here.1
  home_declared (i ∷ is) js n access pool own fits counted among (inr later) = go (i.number == n) refl (λ inner. home_declared is js n access pool own.1 fits.1 counted.1 inner later)
    where
      go : (b : Bool) → (i.number == n) ≡ b → (is_number_of is n ≡ true → IsDeclared allowance types access) → IsDeclared allowance types access
      go true same others =
          let number = eqb-true i.number n same in
          let less = item_below n access pool (is ++ js) counted.1 later in
          let count = counted.0 in
          absurd (omega (arith, number, less, count))
      go false other others = others (rw other at among)

  -- So it is with an object whose words are out, and which has its home in such a master.
  inner_declared :
      {under : List Id} (heap : List Object) (ms : List Master) → Stored under heap ms → AreOwnedBy allowance (innermost ms) → ItemsFit types (items_of ms)
      → (o : Id) (x : Object) → object_at heap o ≡ Some x → x.out ≡ true → is_innermost ms x.cell.home.item ≡ true → IsDeclared allowance types x.cell.access
  inner_declared heap [] stored own fits o x found out inner = absurd (cc inner)
  inner_declared heap (m ∷ ms) stored own fits o x found out inner =
      home_declared m.items (items_of ms) x.cell.home.item x.cell.access x.cell.home.pool own fits stored.counted inner ((stored.sane o x found).housed out)

-- What lies in items for which no operation is called that touches storage lies in these.
behind_among : (ahead : Owned → Bool) (is : List Item) (n : ℕ) → is_number_of (behind_all ahead is) n ≡ true → is_number_of is n ≡ true
behind_among ahead is n among = by (some_ahead ahead is) among
  where
    by : (some : Bool) → is_number_of (if some then [] else is) n ≡ true → is_number_of is n ≡ true
    by true among' = absurd (cc among')
    by false among' = among'

innermost_among : (ms : List Master) (n : ℕ) → is_number_of (innermost ms) n ≡ true → is_innermost ms n ≡ true
innermost_among [] n among = among
innermost_among (m ∷ ms) n among = among

-- What a component names is of an access type.
named_access : (types : List TypeForm) → list_all (type_fits types) types ≡ true → (heap : List Object) (holder held : Object) (c : ℕ) (p : Id) (kind : Option ℕ) → component_access types holder c ≡ kind
    → access_at heap p ≡ Some held.cell.access → IsOf (access_at heap) kind p → is_access types held.cell.access ≡ true
named_access types fit heap holder held c p None is own of = absurd of
named_access types fit heap holder held c p (Some t) is own of =
    let same : t ≡ held.cell.access = cc (own, of) in
    rw (← same) (accepted_access types fit holder.cell.access c t is)

-- While such a master is left, whatever holds the name of an object in it lies in it: where record objects may be in it, types fit.
pub held_in_none : (known : Known) (heap : List Object) (places : List Value) (ms : List Master) (more : Rooms → Holds → Type 0) → Parting known heap places ms more
    → (allowance : Allowance) → AreOwnedBy allowance (innermost ms) → ItemsFit known.program.types (items_of ms)
    → (allowance.objects ≡ true → list_all (type_fits known.program.types) known.program.types ≡ true) → HeldIn heap ms
held_in_none known heap places ms more parting allowance own fits types_fit holder held (o, p, c, holds, names, at') out inner =
    by (sparing known.ahead heap (innermost ms) o) refl
  where
    by : (spared : Bool) → sparing known.ahead heap (innermost ms) o ≡ spared → is_innermost ms holder.cell.home.item ≡ true
    by true is =
        let lies : lies_among (Some holder) (behind_all known.ahead (innermost ms)) ≡ true = sym (ap (λ (x : Option Object). lies_among x (behind_all known.ahead (innermost ms))) holds.0) ∙ is in
        let both = and_parts holder.out (is_number_of (behind_all known.ahead (innermost ms)) holder.cell.home.item) lies in
        innermost_among ms holder.cell.home.item (behind_among known.ahead (innermost ms) holder.cell.home.item both.1)
    by false kept =
        let it_is = inner_declared allowance known.program.types heap ms parting.stored own fits p held names.0 out inner in
        let of = component_is o holder c (Names p) p kept holds.0 holds.1 at' refl parting.fit in
        let accessed = named_access known.program.types (types_fit it_is.0) heap holder held c p (component_access known.program.types holder c) refl (access_is heap p held names.0 names.1) of in
        let declares = it_is.1 in
        absurd (cc (accessed, declares))

-- A master that owns variables alone is the home of no objects.
houses_none : (is : List Item) → AreVariables is → NewestHousesNone is
houses_none [] own = tt
houses_none (i ∷ is) own = by i.owned own.0
  where
    by : (owned : Owned) → IsVariable owned → type_housed owned ≡ None
    by (declared x) variable = refl
    by (collection access pool) variable = absurd variable
    by (record_object t) variable = absurd variable
    by (storage_pool declaration number) variable = absurd variable

pub innermost_houses_none : (ms : List Master) → AreVariables (innermost ms) → InnermostHousesNone ms
innermost_houses_none [] own = tt
innermost_houses_none (m ∷ ms) own = houses_none m.items own

-- Where a body may declare no record objects, its masters own variables alone.
pub owned_variables : (allowance : Allowance) → allowance.objects ≡ false → (is : List Item) → AreOwnedBy allowance is → AreVariables is
owned_variables allowance none [] own = tt
owned_variables allowance none (i ∷ is) own = (by i.owned own.0, owned_variables allowance none is own.1)
  where
    by : (owned : Owned) → IsOwnedBy allowance owned → IsVariable owned
    by (declared x) of = tt
    by (collection access pool) of = absurd of
    by (record_object t) of = absurd (cc (none, of))
    by (storage_pool declaration number) of = absurd of

-- The master that a frugal body leaves is one of its own, also where an object in it is finalized first.
leaving_own : (frugal : Allowance) (back : Control) (among : List Value) (k : Control) (upper lower : List Master) → FrugalLeaves frugal back among k upper
    → AreOwnedBy frugal (innermost (upper ++ lower))
leaving_own frugal back among [] upper lower leaving = absurd leaving
leaving_own frugal back among (Leaves left ∷ k) [] lower leaving = absurd leaving
leaving_own frugal back among (Leaves left ∷ k) (m ∷ upper) lower leaving = leaving.0
leaving_own frugal back among (Ends v ∷ k) upper lower leaving = leaving_own frugal back among k upper lower leaving
leaving_own frugal back among (GivesBack v cause pool ∷ k) upper lower leaving = leaving_own frugal back among k upper lower leaving
leaving_own frugal back among (Treats v treatment tasks ∷ k) upper lower leaving = leaving_own frugal back among k upper lower leaving.1
leaving_own frugal back among (Confines ∷ k) upper lower leaving = leaving_own frugal back among k upper lower leaving.1
leaving_own frugal back among (f ∷ k) upper lower leaving = absurd leaving

pub leaves_own : (frugal : Allowance) (back : Control) (among : List Value) (mode left : Mode) (k : Control) (upper lower : List Master) → Frugal frugal back among mode (Leaves left ∷ k) upper
    → AreOwnedBy frugal (innermost (upper ++ lower))
leaves_own frugal back among mode left k upper lower (inl leads) = absurd leads.0
leaves_own frugal back among mode left k upper lower (inr (inl (may, leaving))) = leaving_own frugal back among (Leaves left ∷ k) upper lower leaving
leaves_own frugal back among mode left k upper lower (inr (inr (may, beginning))) = absurd beginning

-- Such a master owns no collection.
owned_stay : (allowance : Allowance) (ahead : Owned → Bool) (is : List Item) → AreOwnedBy allowance is → departs ahead is ≡ false
owned_stay allowance ahead [] own = refl
owned_stay allowance ahead (i ∷ is) own = by i.owned own.0
  where
    by : (owned : Owned) → IsOwnedBy allowance owned → (not (is_declared_object owned) && some_ahead ahead (i ∷ is)) ≡ false
    by (declared x) of = refl
    by (collection access pool) of = absurd of
    by (record_object t) of = refl
    by (storage_pool declaration number) of = absurd of

-- No component is of the type of a record object, which is no access type: so the newest item goes well.
module _ (allowance : Allowance) (types : List TypeForm) (fit : allowance.objects ≡ true → list_all (type_fits types) types ≡ true) (heap : List Object) where
  owned_declared : (owned : Owned) → IsOwnedBy allowance owned → is_declared_object owned ≡ true
  owned_declared (declared x) own = refl
  owned_declared (collection t from) own = absurd own
  owned_declared (record_object t) own = refl
  owned_declared (storage_pool declaration number) own = absurd own

  newest_goes_well : (is : List Item) → AreOwnedBy allowance is → ItemsFit types is → GoesWell types heap is
  newest_goes_well [] own fits = tt
  newest_goes_well (i ∷ is) own fits = (
    (λ alone access pool houses v c named.
        let it_is = housed_declared allowance types i.owned access pool own.0 fits.0 houses in
        let none = it_is.1 in
        let one = component_is_access types (fit it_is.0) v c access named in
        cc (one, none)),
    (λ collected. let declared_so = owned_declared i.owned own.0 in absurd (cc (collected, declared_so))),
  )

  pub owned_goes_well : (ms : List Master) → AreOwnedBy allowance (innermost ms) → ItemsFit types (items_of ms) → GoesWell types heap (innermost ms)
  owned_goes_well [] own fits = tt
  owned_goes_well (m ∷ ms) own fits = newest_goes_well m.items own (fit_before types m.items (items_of ms) fits)

-- What is freed ends in front of no master that is left.
module _ (known : Known) (frugal : Allowance) (back : Control) (among : List Value) (heap : List Object) (places : List Value) (masters : List Master) (upper : List Master) where
  none_left : (under : Option Id) (k : Control) → LeavesTo known under heap places masters k → FrugalLeads frugal back among k upper → ⊥
  none_left under [] left leads = left
  none_left under (Leaves mode ∷ k) left leads = leads.0
  none_left under (f ∷ k) left leads = left

  none_leaving : (o : Id) (home : Home) (w : Value) (m item : ℕ) (pool : Option ℕ) (k : Control) → ThenBack known o home heap places masters (GivesBack w (Leaving m item) pool ∷ k) → FrugalLeads frugal back among k upper → ⊥
  none_leaving o home Null m item pool k behind leads = behind
  none_leaving o home (Names p) m item pool k (same, from, behind) leads = none_left (Some o) k behind.2 leads
  none_leaving o home (Scalar n) m item pool k behind leads = behind
  none_leaving o home (Part p place) m item pool k behind leads = behind

  none_ending : (v w : Value) (m item : ℕ) (pool : Option ℕ) (k : Control) → EndingBy known v (GivesBack w (Leaving m item) pool ∷ k) heap places masters → FrugalLeads frugal back among k upper → ⊥
  none_ending Null w m item pool k ending leads = ending
  none_ending (Names o) w m item pool k ending leads = none_leaving o ending.object.cell.home w m item pool k ending.rest leads
  none_ending (Scalar n) w m item pool k ending leads = ending
  none_ending (Part o place) w m item pool k ending leads = ending

-- So no collection is left while a frugal body runs for whose objects operations may be called that touch storage.
pub frugal_stays : (known : Known) (frugal : Allowance) (back : Control) (among : List Value) (mode : Mode) (k : Control) (heap : List Object) (places operands : List Value) (upper lower : List Master)
    → Frugal frugal back among mode k upper
    → ReadyIn known Running k heap places operands (upper ++ lower) → departs_next (departs known.ahead (innermost (upper ++ lower))) k ≡ false
frugal_stays known frugal back among mode [] heap places operands upper lower frugally ready = refl
frugal_stays known frugal back among mode (Leaves left ∷ k) heap places operands upper lower frugally ready =
    owned_stay frugal known.ahead (innermost (upper ++ lower)) (leaves_own frugal back among mode left k upper lower frugally)
frugal_stays known frugal back among mode (Ends v ∷ GivesBack w (Leaving m item) pool ∷ k) heap places operands upper lower (inl leads) ready =
    absurd (none_ending known frugal back among heap places (upper ++ lower) upper v w m item pool k ready leads.1.1)
frugal_stays known frugal back among mode (Ends v ∷ GivesBack w (Leaving m item) pool ∷ k) heap places operands upper lower (inr (inl leaving)) ready =
    owned_stay frugal known.ahead (innermost (upper ++ lower)) (leaving_own frugal back among k upper lower leaving.1)
frugal_stays known frugal back among mode (Ends v ∷ GivesBack w (Leaving m item) pool ∷ k) heap places operands upper lower (inr (inr beginning)) ready = absurd beginning.1
frugal_stays known frugal back among mode k heap places operands upper lower frugally ready = refl

-- Nor is one left behind an operation of an object that such a body finalizes.
pub operated_stays : (ahead : Owned → Bool) (frugal : Allowance) (back : Control) (among : List Value) (v w : Value) (treatment : Treatment) (tasks : List Task) (m item : ℕ) (pool : Option ℕ) (mode : Mode) (k : Control) (upper lower : List Master)
    → FrugalOperated frugal back among (Confines ∷ treating v treatment tasks (Ends v ∷ GivesBack w (Leaving m item) pool ∷ Leaves mode ∷ k)) upper → departs ahead (innermost (upper ++ lower)) ≡ false
operated_stays ahead frugal back among v w treatment [] m item pool mode k upper lower (vs, is, inl (ending, leads)) = absurd leads.1.1.0
operated_stays ahead frugal back among v w treatment [] m item pool mode k upper lower (vs, is, inr (inr (ending, q))) = absurd q
operated_stays ahead frugal back among v w (begins by done) (task ∷ tasks) m item pool mode k upper lower (vs, is, inr (inr (ending, q))) = absurd q.1.1.1.0
operated_stays ahead frugal back among v w (ends cause) (task ∷ tasks) m item pool mode k upper lower (vs, is, inr (inr (ending, q))) = absurd q.1
operated_stays ahead frugal back among v w treatment [] m item pool mode k upper lower (vs, is, inr (inl (ending, leaving))) =
    owned_stay frugal ahead (innermost (upper ++ lower)) (leaving_own frugal back vs (Ends v ∷ GivesBack w (Leaving m item) pool ∷ Leaves mode ∷ k) upper lower leaving)
operated_stays ahead frugal back among v w treatment (task ∷ tasks) m item pool mode k upper lower (vs, is, inl (ending, leads)) = absurd leads.1.1.1.0
operated_stays ahead frugal back among v w treatment (task ∷ tasks) m item pool mode k upper lower (vs, is, inr (inl (ending, leaving))) =
    owned_stay frugal ahead (innermost (upper ++ lower)) (leaving_own frugal back vs (Ends v ∷ GivesBack w (Leaving m item) pool ∷ Leaves mode ∷ k) upper lower leaving.1)
