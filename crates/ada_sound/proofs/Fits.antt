-- What is relied on in a run: variables of the running activation by their holds, and components, which own what they hold.

use Rattle.std.proofs.Common.{◌≡◌, ◌≢◌, ℕ, zero, suc, ◌+◌, Bool, true, false, List, [], ◌∷◌, ◌++◌, map, refl, sym, ap, ◌∙◌, ◌⊎◌, inl, inr}
use Rattle.std.specs.Prelude.{Option, Some, None, ◌==◌, ◌||◌, ◌&&◌, if◌then◌else◌}
use Rattle.std.specs.List.{slice_get, slice_set, slice_index_or}
use Rattle.std.proofs.lemmas.Bool.{eqb-true}
use Rattle.ada_text.specs.declared.spot.Spot.{Spot}
use Rattle.ada_program.specs.ProgramForm.{TypeForm, VariableForm}
use Rattle.ada_program.specs.declared.program.VariableKind.{VariableKind}
use Rattle.ada_program.specs.declared.program.VariableKind.TheVariants as variable_kinds
use Rattle.ada_program.specs.WellFormed.{is_access, access_of, reached_components, kind_among, selected_kind, variable_kind}
use Rattle.ada_flow.specs.declared.rule.Hold.{Hold}
use Rattle.ada_flow.specs.declared.rule.Hold.TheVariants as hold
use Rattle.ada_flow.specs.declared.rule.Region.{Region}
use Rattle.ada_flow.specs.declared.rule.Region.TheVariants.{Whole}
use Rattle.ada_flow.specs.Flow.{Holds, hold_at, variable_access, lost_by, is_as_good, left_by_move, without_value, without_values, without_aliases, behind_end, freed}
use Rattle.ada_meaning.specs.declared.state.Id.{Id}
use Rattle.ada_meaning.specs.declared.state.Value.{Value}
use Rattle.ada_meaning.specs.declared.state.Value.TheVariants.{Null, Names, Scalar, Part}
use Rattle.ada_meaning.specs.Heap.{PartState, Cell}
use Rattle.ada_meaning.specs.State.{Activation, Item, Owned}
use Rattle.ada_meaning.specs.Named.{Object, object_at, changed, filled, create, created, store, parted, finished, returned, treated}
use Rattle.ada_scopes.specs.Scopes.{is_number_of}
use Rattle.ada_owners.specs.Places.{is_there, Place, variable, component, elsewhere, component_in, value_at, access_in, access_at, is_lent}
use Rattle.ada_owners.specs.Reliance.{IsOf, Says, Owns, Borrows, Kinds, kind_of, Reliance, component_hold, hold_of, with_hold, with_lent, Fits, IsInHand, AreInHand}
use Rattle.ada_owners.specs.Keeping.{IsThere}
use Rattle.ada_owners.proofs.Kernel as kernel
use Rattle.ada_owners.proofs.Kernel.{same_or_not, same_id, same_place, lost_owns}
use Rattle.ada_owners.proofs.Objects.{read_same, read_other, at_other, at_older, not_past, present_at, component_there}
use Rattle.ada_owners.proofs.Changes as changes
use Rattle.ada_owners.proofs.Changes.{kinds_same, weaken, taken, nulls, put_fits, put_hand, put_blank, put_reads, put_value, at_here, changed_is, store_is, store_hand}
use Rattle.ada_owners.proofs.Creations.{create_fits, created_hand}
use Rattle.ada_sound.proofs.Objects.{read_beside, set_twice}
use Rattle.ada_owners.proofs.Ends.{IsUnnamed, kind_is, part_fits, finish_fits, back_fits}
use Rattle.ada_owners.proofs.Reliances.{good_same, good_lost, forget_good, forget_borrows, forget_owner}
use Rattle.ada_owners.proofs.Keeping.{take_pairs_keep, component_pairs_keep, insertions_keep}

-- A suspended activation: the variables of its body, what they hold, and what they are relied on for once its call has come to its end.
pub record Outer : Type 0 where
  pub variables : List VariableForm
  pub places : List Value
  pub holds : Holds

-- An object in which a record lies that was passed to an activation, or a component that gets something back behind its call; and its access type.
pub record Reference : Type 0 where
  pub object : Id
  pub access : ℕ

-- An object is among these, and is of this access type.
abbrev pub IsReferred : List Reference → Id → (access : ℕ) → Type 0
IsReferred [] o t = ⊥
IsReferred (r ∷ rs) o t = ((r.object ≡ o) × (r.access ≡ t)) ⊎ IsReferred rs o t

-- It is among two lists, if it is among one of them.
pub referred_first : (rs ss : List Reference) (o : Id) (t : ℕ) → IsReferred rs o t → IsReferred (rs ++ ss) o t
referred_first [] ss o t is = absurd is
referred_first (r ∷ rs) ss o t (inl is) = inl is
referred_first (r ∷ rs) ss o t (inr is) = inr (referred_first rs ss o t is)

pub referred_behind : (rs ss : List Reference) (o : Id) (t : ℕ) → IsReferred ss o t → IsReferred (rs ++ ss) o t
referred_behind [] ss o t is = is
referred_behind (r ∷ rs) ss o t is = inr (referred_behind rs ss o t is)

pub referred_either : (rs ss : List Reference) (o : Id) (t : ℕ) → IsReferred (rs ++ ss) o t → IsReferred rs o t ⊎ IsReferred ss o t
referred_either [] ss o t is = inr is
referred_either (r ∷ rs) ss o t (inl is) = inl (inl is)
referred_either (r ∷ rs) ss o t (inr is) = elim (referred_either rs ss o t is) [ inl e ↦ inl (inr e) | inr e ↦ inr e ]

-- What is outside of the running activation: what its call gave its formal parameters, and the suspended activations, the nearest one first; and the
-- objects that calls of these and of the running one refer to; and those that are under way, as treatments in suspended activations finalize them.
pub record Outsiders : Type 0 where
  pub given : List Value
  pub suspended : List Outer
  pub referenced : List Reference
  pub under : List Id

-- The access type of a variable of a suspended activation, and what it is relied on for.
abbrev pub outer_access : Option Outer → ℕ → Option ℕ
outer_access None x = None
outer_access (Some w) x = variable_access w.variables x

abbrev pub outer_holds : Option Outer → Holds
outer_holds None = []
outer_holds (Some w) = w.holds

abbrev pub outer_hold : Option Outer → ℕ → Hold
outer_hold w x = hold_at (outer_holds w) x

-- What a variable holds.
abbrev pub place_at : List Value → ℕ → Value
place_at places x = slice_index_or places x Null

-- What a variable of a suspended activation holds.
abbrev pub outer_value : Option Outer → ℕ → Value
outer_value None x = Null
outer_value (Some w) x = place_at w.places x

-- A variable of one of these activations owns an object.
abbrev pub IsOwnedAmong : List Outer → Id → Type 0
IsOwnedAmong suspended o =
    (d : ℕ) × (x : ℕ) × Owns (outer_hold (slice_get suspended d) x) × (outer_value (slice_get suspended d) x ≡ Names o)

-- A variable of a suspended activation owns it: so no variable of the running activation does, and no component.
abbrev pub IsOwnedOutside : Outsiders → Id → Type 0
IsOwnedOutside outer o = IsOwnedAmong outer.suspended o

-- A value names such an object.
abbrev pub NamesOwnedOutside : Outsiders → Value → Type 0
NamesOwnedOutside outer Null = ⊥
NamesOwnedOutside outer (Names o) = IsOwnedOutside outer o
NamesOwnedOutside outer (Scalar v) = ⊥
NamesOwnedOutside outer (Part o first) = ⊥

-- One more activation is suspended: what the others own is owned among all of them; and so is what the new one owns.
pub owned_deeper : (w : Outer) (suspended : List Outer) (o : Id) → IsOwnedAmong suspended o → IsOwnedAmong (w ∷ suspended) o
owned_deeper w suspended o (d, x, owns, names) = (suc d, x, owns, names)

pub owned_here : (w : Outer) (suspended : List Outer) (x : ℕ) (o : Id) → Owns (hold_at w.holds x) → place_at w.places x ≡ Names o → IsOwnedAmong (w ∷ suspended) o
owned_here w suspended x o owns names = (zero, x, owns, names)

-- No suspended activation has an alias of an access type, and each object of it that is referred to is owned outside; or of the one that there is, if there is one.
abbrev pub NoOuterAlias : List TypeForm → Outsiders → (access : ℕ) → Type 0
NoOuterAlias types outer t =
    ((d x : ℕ) → outer_access (slice_get outer.suspended d) x ≡ Some t → Borrows (outer_hold (slice_get outer.suspended d) x) → ⊥)
    × ((o : Id) → IsReferred outer.referenced o t → is_access types t ≡ true → IsOwnedOutside outer o)

abbrev pub NoOuterAliases : List TypeForm → Outsiders → (kind : Option ℕ) → Type 0
NoOuterAliases types outer kind = (t : ℕ) → kind ≡ Some t → (is_access types t ≡ true) × NoOuterAlias types outer t

-- The access types of components, of variables, and of those of suspended activations, the nearest one first.
abbrev pub kinds_of : List TypeForm → List VariableForm → Outsiders → Kinds
kinds_of types variables outer = record {
  components = λ t c. access_of (kind_among (reached_components types t) c);
  variables = variable_access variables;
  outer = λ d x. outer_access (slice_get outer.suspended d) x;
}

-- Activations with these variables, and no operands.
abbrev pub bare : List Value → Activation Value
bare places = record { procedure = None; places = places; operands = [] }

abbrev pub bare_outer : Outer → Activation Value
bare_outer w = bare w.places

abbrev pub stacked : List Value → Outsiders → List (Activation Value)
stacked places outer = bare places ∷ map bare_outer outer.suspended

-- Nothing relies on the components of some objects: of none; or of those whose words are out and whose home is one of these items.
abbrev pub none_spared : Id → Bool
none_spared o = false

abbrev pub lies_among : Option Object → List Item → Bool
lies_among None items = false
lies_among (Some x) items = x.out && is_number_of items x.cell.home.item

abbrev pub going : List Object → List Item → Id → Bool
going heap items o = lies_among (object_at heap o) items

-- For the objects of one of these items an operation may be called that touches storage.
abbrev pub some_ahead : (ahead : Owned → Bool) → List Item → Bool
some_ahead ahead [] = false
some_ahead ahead (i ∷ is) = ahead i.owned || some_ahead ahead is

-- The items of a master, once no such operation is called any more.
abbrev pub behind_all : (ahead : Owned → Bool) → List Item → List Item
behind_all ahead is = if some_ahead ahead is then [] else is

-- Where a master is left, nothing relies on the components of what lies in its collections, once no such operation is called for any of it.
abbrev pub sparing : (ahead : Owned → Bool) → List Object → List Item → Id → Bool
sparing ahead heap items o = going heap (behind_all ahead items) o

-- What a place is relied on for.
abbrev pub hold_in : Outsiders → (spared : Id → Bool) → Holds → Place → Hold
hold_in outer spared holds (variable x) = hold_at holds x
hold_in outer spared holds (component o c) = component_hold (spared o)
hold_in outer spared holds (elsewhere d x) = outer_hold (slice_get outer.suspended d) x

-- A value refers to no record.
abbrev pub IsPlain : Value → Type 0
IsPlain Null = Unit {0}
IsPlain (Names o) = Unit {0}
IsPlain (Scalar v) = Unit {0}
IsPlain (Part o first) = ⊥

-- A variable that is called null is null, and one that is kept holds what was given; what it is relied on to own it names, and refers to no record.
abbrev pub IsSaid : (given : Value) → Hold → Value → Type 0
IsSaid given hold.Null v = v ≡ Null
IsSaid given (hold.Kept r) v = (v ≡ given) × IsPlain v
IsSaid given (hold.Own r) v = IsPlain v
IsSaid given (hold.Alias r) v = Unit {0}
IsSaid given hold.Lost v = Unit {0}

suspended_value_at : (heap : List Object) (places : List Value) (ws : List Outer) (d x : ℕ) → value_at heap (bare places ∷ map bare_outer ws) (elsewhere d x) ≡ outer_value (slice_get ws d) x
suspended_value_at heap places [] zero x = refl
suspended_value_at heap places [] (suc d) x = refl
suspended_value_at heap places (w ∷ ws) zero x = refl
suspended_value_at heap places (w ∷ ws) (suc d) x = suspended_value_at heap w.places ws d x

pub outer_value_at : (heap : List Object) (places : List Value) (outer : Outsiders) (d x : ℕ) → value_at heap (stacked places outer) (elsewhere d x) ≡ outer_value (slice_get outer.suspended d) x
outer_value_at heap places outer d x = suspended_value_at heap places outer.suspended d x

-- A variable is a record object.
abbrev pub names_object : Option VariableKind → Bool
names_object None = false
names_object (Some variable_kinds.Integer) = false
names_object (Some variable_kinds.Boolean) = false
names_object (Some (variable_kinds.Access access)) = false
names_object (Some (variable_kinds.Record object)) = true

abbrev pub is_object : List VariableForm → ℕ → Bool
is_object variables x = names_object (variable_kind variables x)

-- A record that is known by this kind lies in objects of an access type, from a component on: they have its components from there on.
abbrev pub IsWithin : List TypeForm → Option VariableKind → (access first : ℕ) → Type 0
IsWithin types kind t first =
    (c : ℕ) (k : VariableKind) → selected_kind types kind c ≡ Some k → kind_among (reached_components types t) (first + c) ≡ Some k

-- What a variable of this kind holds that is not lost: a record object is there, and what refers to a record, as a record parameter does, leads into an
-- object that is referred to.
abbrev pub IsPlace : List TypeForm → List Reference → Option VariableKind → Value → Type 0
IsPlace types referenced kind Null = names_object kind ≡ false
IsPlace types referenced kind (Names o) = Unit {0}
IsPlace types referenced kind (Scalar v) = Unit {0}
IsPlace types referenced kind (Part o place) = (names_object kind ≡ true) × (t : ℕ) × IsReferred referenced o t × IsWithin types kind t place.component

-- No component refers to a record.
abbrev pub ArePlain : List Object → Type 0
ArePlain heap = (o : Id) (object : Object) (c : ℕ) (v : Value) → object_at heap o ≡ Some object → slice_get object.cell.values c ≡ Some v → IsPlain v

-- All places are as they are relied on to be; a record object that is not lost is there; and so is each object that is referred to.
pub record Fit (types : List TypeForm) (variables : List VariableForm) (outer : Outsiders) (spared : Id → Bool) (heap : List Object) (places : List Value) (holds : Holds) : Type 0 where
  pub owners : Fits (kinds_of types variables outer) heap (stacked places outer) (hold_in outer spared holds)
  pub said : (x : ℕ) → IsSaid (place_at outer.given x) (hold_at holds x) (place_at places x)
  pub objects : (x : ℕ) → hold_at holds x ≢ hold.Lost → IsPlace types outer.referenced (variable_kind variables x) (place_at places x)
  pub referred : (o : Id) (t : ℕ) → IsReferred outer.referenced o t → access_at heap o ≡ Some t

-- A value is in hand: no place owns what it names.
abbrev pub Hand : List TypeForm → List VariableForm → Outsiders → (spared : Id → Bool) → List Object → List Value → Holds → (kind : Option ℕ) → Value → Type 0
Hand types variables outer spared heap places holds kind v = IsInHand heap (stacked places outer) (hold_in outer spared holds) kind v

-- It owns what is there.
abbrev pub IsOwn : Hold → Type 0
IsOwn hold.Null = ⊥
IsOwn (hold.Kept r) = Unit {0}
IsOwn (hold.Own r) = Unit {0}
IsOwn (hold.Alias r) = ⊥
IsOwn hold.Lost = ⊥

-- It is relied on to name what is there.
abbrev pub IsRelied : Hold → Type 0
IsRelied hold.Null = ⊥
IsRelied (hold.Kept r) = Unit {0}
IsRelied (hold.Own r) = Unit {0}
IsRelied (hold.Alias r) = Unit {0}
IsRelied hold.Lost = ⊥

-- What a value names, if it names anything, is there, and of this access type.
abbrev pub MayName : List Object → (kind : Option ℕ) → Value → Type 0
MayName heap kind v = (o : Id) → v ≡ Names o → IsOf (access_at heap) kind o

-- A value that may be followed: null raises, and what is named is there; another value is no access value.
abbrev pub MayFollow : List Object → Value → Type 0
MayFollow heap Null = Unit {0}
MayFollow heap (Names o) = IsThere heap o
MayFollow heap (Scalar v) = Unit {0}
MayFollow heap (Part o first) = Unit {0}

-- The access type of a component of an object.
abbrev pub component_access : List TypeForm → Object → (c : ℕ) → Option ℕ
component_access types x c = access_of (kind_among (reached_components types x.cell.access) c)

-- What is called null by less was called so before.
said_good : (given : Value) (g h : Hold) (v : Value) → is_as_good g h ≡ true → IsSaid given g v → IsSaid given h v
said_good given hold.Null (hold.Own r) v e is = rw is tt
said_good given (hold.Kept q) (hold.Own r) v e is = is.1
said_good given (hold.Own q) (hold.Own r) v e is = is
said_good given g (hold.Alias r) v e is = tt
said_good given g hold.Lost v e is = tt
said_good given hold.Null hold.Null v e is = is
said_good given (hold.Kept q) (hold.Kept r) v e is = is
said_good given g h v e is = absurd (cc e)

-- What is not lost by less was not lost before.
lost_stays : (g h : Hold) → is_as_good g h ≡ true → h ≢ hold.Lost → g ≢ hold.Lost
lost_stays g hold.Null e ne is = absurd (cc (is, e))
lost_stays g (hold.Kept r) e ne is = absurd (cc (is, e))
lost_stays g (hold.Own r) e ne is = absurd (cc (is, e))
lost_stays g (hold.Alias r) e ne is = absurd (cc (is, e))
lost_stays g hold.Lost e ne is = ne refl

-- What is relied on is as good everywhere, if it is so for variables.
weaker_holds : (outer : Outsiders) → (spared : Id → Bool) (holds less : Holds) → ((x : ℕ) → is_as_good (hold_at holds x) (hold_at less x) ≡ true) → (p : Place) → is_as_good (hold_in outer spared holds p) (hold_in outer spared less p) ≡ true
weaker_holds outer spared holds less good (variable x) = good x
weaker_holds outer spared holds less good (component o c) = good_same (component_hold (spared o))
weaker_holds outer spared holds less good (elsewhere d x) = good_same (outer_hold (slice_get outer.suspended d) x)

-- Less is known.
pub weaker_fit : {types : List TypeForm} {variables : List VariableForm} {outer : Outsiders} {spared : Id → Bool} {heap : List Object} {places : List Value} {holds : Holds} (less : Holds) → ((x : ℕ) → is_as_good (hold_at holds x) (hold_at less x) ≡ true) → Fit types variables outer spared heap places holds → Fit types variables outer spared heap places less
weaker_fit {outer = outer} {spared = spared} {places = places} {holds = holds} less good f = record {
  owners = weaken (hold_in outer spared less) (weaker_holds outer spared holds less good) f.owners;
  said = λ x. said_good (place_at outer.given x) (hold_at holds x) (hold_at less x) (place_at places x) (good x) (f.said x);
  objects = λ x ne. f.objects x (lost_stays (hold_at holds x) (hold_at less x) (good x) ne);
  referred = f.referred;
}

-- A component that may be spared says no more than one that isn't.
spared_good : (b : Bool) → is_as_good (hold.Own Whole) (component_hold b) ≡ true
spared_good true = refl
spared_good false = refl

spared_holds : (outer : Outsiders) → (spared : Id → Bool) (holds : Holds) (p : Place) → is_as_good (hold_in outer none_spared holds p) (hold_in outer spared holds p) ≡ true
spared_holds outer spared holds (variable x) = good_same (hold_at holds x)
spared_holds outer spared holds (component o c) = spared_good (spared o)
spared_holds outer spared holds (elsewhere d x) = good_same (outer_hold (slice_get outer.suspended d) x)

-- Nothing relies on components of some objects any more.
pub spare_fit : {types : List TypeForm} {variables : List VariableForm} {outer : Outsiders} {heap : List Object} {places : List Value} {holds : Holds} (spared : Id → Bool) → Fit types variables outer none_spared heap places holds → Fit types variables outer spared heap places holds
spare_fit {outer = outer} {holds = holds} spared f = record {
  owners = weaken (hold_in outer spared holds) (spared_holds outer spared holds) f.owners;
  said = f.said;
  objects = f.objects;
  referred = f.referred;
}

-- A variable has another hold, that says no more.
set_good : (holds : Holds) (y : ℕ) (h : Hold) → is_as_good (hold_at holds y) h ≡ true → (x : ℕ) → is_as_good (hold_at holds x) (hold_at (slice_set holds y h) x) ≡ true
set_good holds y h good x = go (same_or_not x y) (read_same holds y h hold.Lost)
  where
    go : (x ≡ y) ⊎ (x ≢ y) → (hold_at (slice_set holds y h) y ≡ h) ⊎ (hold_at (slice_set holds y h) y ≡ hold.Lost) → is_as_good (hold_at holds x) (hold_at (slice_set holds y h) x) ≡ true
    go (inl e) (inl is) = rw (e, is) good
    go (inl e) (inr is) = rw (e, is) (good_lost (hold_at holds y))
    go (inr ne) is = rw (read_other holds y x h hold.Lost ne) (good_same (hold_at holds x))

moved_good : (h : Hold) → is_as_good h (left_by_move h) ≡ true
moved_good hold.Null = refl
moved_good (hold.Kept Whole) = refl
moved_good (hold.Own Whole) = refl
moved_good (hold.Alias Whole) = refl
moved_good hold.Lost = refl

-- A variable loses what it holds; variables that were moved do.
pub lose : {types : List TypeForm} {variables : List VariableForm} {outer : Outsiders} {spared : Id → Bool} {heap : List Object} {places : List Value} {holds : Holds} (y : ℕ) → Fit types variables outer spared heap places holds → Fit types variables outer spared heap places (slice_set holds y hold.Lost)
lose {outer = outer} {holds = holds} y f = weaker_fit (slice_set holds y hold.Lost) (set_good holds y hold.Lost (good_lost (hold_at holds y))) f

pub lose_all : {types : List TypeForm} {variables : List VariableForm} {outer : Outsiders} {spared : Id → Bool} {heap : List Object} {places : List Value} {holds : Holds} (ys : List ℕ) → Fit types variables outer spared heap places holds → Fit types variables outer spared heap places (without_values ys holds)
lose_all {outer = outer} [] f = f
lose_all {outer = outer} {holds = holds} (y ∷ ys) f =
    lose_all ys (weaker_fit (without_value y holds) (set_good holds y (left_by_move (hold_at holds y)) (moved_good (hold_at holds y))) f)

-- A variable has another hold: it is relied on for that, or lost, and other places are relied on as before.
set_here : (outer : Outsiders) → (spared : Id → Bool) (holds : Holds) (x : ℕ) (h : Hold) → (hold_in outer spared (slice_set holds x h) (variable x) ≡ h) ⊎ (hold_in outer spared (slice_set holds x h) (variable x) ≡ hold.Lost)
set_here outer spared holds x h = read_same holds x h hold.Lost

set_others : (outer : Outsiders) → (spared : Id → Bool) (holds : Holds) (x : ℕ) (h : Hold) (q : Place) → q ≢ variable x → hold_in outer spared (slice_set holds x h) q ≡ hold_in outer spared holds q
set_others outer spared holds x h (variable y) ne = read_other holds x y h hold.Lost (λ e. ne (ap variable e))
set_others outer spared holds x h (component o c) ne = refl
set_others outer spared holds x h (elsewhere d y) ne = refl

set_lost : (outer : Outsiders) → (spared : Id → Bool) (holds : Holds) (x : ℕ) → hold_in outer spared (slice_set holds x hold.Lost) (variable x) ≡ hold.Lost
set_lost outer spared holds x = elim (set_here outer spared holds x hold.Lost) [ inl e ↦ e | inr e ↦ e ]

some_by : (g : Hold) (r : Region) → (g ≡ hold.Own r) ⊎ (g ≡ hold.Lost) → g ≢ hold.Null
some_by g r (inl e) n = cc (e, n)
some_by g r (inr e) n = cc (e, n)

-- What is called null then is null.
said_by : (given : Value) (g h : Hold) (v : Value) → (g ≡ h) ⊎ (g ≡ hold.Lost) → IsSaid given h v → IsSaid given g v
said_by given g h v (inl e) is = rw e is
said_by given g h v (inr e) is = rw e tt

set_said : (given : List Value) (holds : Holds) (places after : List Value) (x : ℕ) (h : Hold) → ((y : ℕ) → y ≢ x → place_at after y ≡ place_at places y) → IsSaid (place_at given x) h (place_at after x) → ((y : ℕ) → IsSaid (place_at given y) (hold_at holds y) (place_at places y)) → (y : ℕ) → IsSaid (place_at given y) (hold_at (slice_set holds x h) y) (place_at after y)
set_said given holds places after x h others here said y = go (same_or_not y x)
  where
    go : (y ≡ x) ⊎ (y ≢ x) → IsSaid (place_at given y) (hold_at (slice_set holds x h) y) (place_at after y)
    go (inl e) = rw e (said_by (place_at given x) (hold_at (slice_set holds x h) x) h (place_at after x) (read_same holds x h hold.Lost) here)
    go (inr ne) = rw (read_other holds x y h hold.Lost ne, others y ne) (said y)

put_said : (given : List Value) (holds : Holds) (places : List Value) (x : ℕ) (v : Value) (h : Hold) → IsSaid (place_at given x) h (place_at (slice_set places x v) x) → ((y : ℕ) → IsSaid (place_at given y) (hold_at holds y) (place_at places y)) → (y : ℕ) → IsSaid (place_at given y) (hold_at (slice_set holds x h) y) (place_at (slice_set places x v) y)
put_said given holds places x v h here said = set_said given holds places (slice_set places x v) x h (λ y ne. read_other places x y v Null ne) here said

-- What is not lost is what it was still.
module _ (types : List TypeForm) (referenced : List Reference) (variables : List VariableForm) where
  abbrev ArePlaces : Holds → List Value → Type 0
  ArePlaces holds places = (y : ℕ) → hold_at holds y ≢ hold.Lost → IsPlace types referenced (variable_kind variables y) (place_at places y)

  set_objects : (holds : Holds) (places after : List Value) (x : ℕ) (h : Hold) → ((y : ℕ) → y ≢ x → place_at after y ≡ place_at places y) → (h ≢ hold.Lost → IsPlace types referenced (variable_kind variables x) (place_at after x)) → ArePlaces holds places → ArePlaces (slice_set holds x h) after
  set_objects holds places after x h others here there y ne = go (same_or_not y x)
    where
      by : (g : Hold) → (g ≡ h) ⊎ (g ≡ hold.Lost) → g ≢ hold.Lost → h ≢ hold.Lost
      by g (inl e) kept lost = kept (e ∙ lost)
      by g (inr e) kept lost = kept e

      go : (y ≡ x) ⊎ (y ≢ x) → IsPlace types referenced (variable_kind variables y) (place_at after y)
      go (inl e) = rw e (here (by (hold_at (slice_set holds x h) x) (read_same holds x h hold.Lost) (rw e at ne)))
      go (inr other) = rw (others y other) (there y (rw (read_other holds x y h hold.Lost other) at ne))

  put_objects : (holds : Holds) (places : List Value) (x : ℕ) (v : Value) (h : Hold) → (h ≢ hold.Lost → IsPlace types referenced (variable_kind variables x) (place_at (slice_set places x v) x)) → ArePlaces holds places → ArePlaces (slice_set holds x h) (slice_set places x v)
  put_objects holds places x v h here there = set_objects holds places (slice_set places x v) x h (λ y ne. read_other places x y v Null ne) here there

-- A value that refers to no record may lie in each variable that is no record object.
pub plain_by : (types : List TypeForm) (referenced : List Reference) (kind : Option VariableKind) (v : Value) → names_object kind ≡ false → IsPlain v → IsPlace types referenced kind v
plain_by types referenced kind Null none plain = none
plain_by types referenced kind (Names o) none plain = tt
plain_by types referenced kind (Scalar v) none plain = tt
plain_by types referenced kind (Part o first) none plain = absurd plain

pub plain_place : (types : List TypeForm) (referenced : List Reference) (variables : List VariableForm) (places : List Value) (x : ℕ) (v : Value) → is_object variables x ≡ false → IsPlain v → IsPlace types referenced (variable_kind variables x) (place_at (slice_set places x v) x)
plain_place types referenced variables places x v none plain = go (read_same places x v Null)
  where
    go : (place_at (slice_set places x v) x ≡ v) ⊎ (place_at (slice_set places x v) x ≡ Null) → IsPlace types referenced (variable_kind variables x) (place_at (slice_set places x v) x)
    go (inl e) = rw e (plain_by types referenced (variable_kind variables x) v none plain)
    go (inr e) = rw e none

-- So does what a variable holds that is no record object.
pub place_plain : (types : List TypeForm) (referenced : List Reference) (kind : Option VariableKind) (v : Value) → names_object kind ≡ false → IsPlace types referenced kind v → IsPlain v
place_plain types referenced kind Null none place = tt
place_plain types referenced kind (Names o) none place = tt
place_plain types referenced kind (Scalar v) none place = tt
place_plain types referenced kind (Part o first) none place = let is = place.0 in absurd (cc (none, is))

-- A variable that is null, and not lost, is no record object.
pub null_object : {types : List TypeForm} {variables : List VariableForm} {outer : Outsiders} {spared : Id → Bool} {heap : List Object} {places : List Value} {holds : Holds} (x : ℕ) → hold_at holds x ≢ hold.Lost → place_at places x ≡ Null → Fit types variables outer spared heap places holds → is_object variables x ≡ false
null_object {outer = outer} x ne null f = let place = f.objects x ne in rw null at place

-- One that is no record object, and not lost, refers to no record.
pub plain_object : {types : List TypeForm} {variables : List VariableForm} {outer : Outsiders} {spared : Id → Bool} {heap : List Object} {places : List Value} {holds : Holds} (x : ℕ) → hold_at holds x ≢ hold.Lost → is_object variables x ≡ false → Fit types variables outer spared heap places holds → IsPlain (place_at places x)
plain_object {types = types} {variables = variables} {outer = outer} {places = places} x ne none f = place_plain types outer.referenced (variable_kind variables x) (place_at places x) none (f.objects x ne)

-- What a variable gets that refers to no record, or else null, it holds.
plain_put : (places : List Value) (x : ℕ) (v : Value) → IsPlain v → IsPlain (place_at (slice_set places x v) x)
plain_put places x v plain = elim (read_same places x v Null) [ inl e ↦ rw e plain | inr e ↦ rw e tt ]

null_put : (places : List Value) (x : ℕ) → place_at (slice_set places x Null) x ≡ Null
null_put places x = elim (read_same places x Null Null) [ inl e ↦ e | inr e ↦ e ]

-- A variable gets any value, on which nothing relies; null; or what is in hand.
pub put_lost : {types : List TypeForm} {variables : List VariableForm} {outer : Outsiders} {spared : Id → Bool} {heap : List Object} {places : List Value} {holds : Holds} (x : ℕ) (v : Value) → Fit types variables outer spared heap places holds → Fit types variables outer spared heap (slice_set places x v) (slice_set holds x hold.Lost)
put_lost {types = types} {variables = variables} {outer = outer} {spared = spared} {places = places} {holds = holds} x v f = record {
  owners = put_fits x v (hold_in outer spared (slice_set holds x hold.Lost)) (set_others outer spared holds x hold.Lost) f.owners
      (λ o e. rw (set_lost outer spared holds x) tt)
      (λ o own. absurd (lost_owns (hold_in outer spared (slice_set holds x hold.Lost) (variable x)) (set_lost outer spared holds x) own));
  said = put_said outer.given holds places x v hold.Lost tt f.said;
  objects = put_objects types outer.referenced variables holds places x v hold.Lost (λ ne. absurd (ne refl)) f.objects;
  referred = f.referred;
}

pub put_null : {types : List TypeForm} {variables : List VariableForm} {outer : Outsiders} {spared : Id → Bool} {heap : List Object} {places : List Value} {holds : Holds} (x : ℕ) → is_object variables x ≡ false → Fit types variables outer spared heap places holds → Fit types variables outer spared heap (slice_set places x Null) (slice_set holds x hold.Null)
put_null {types = types} {variables = variables} {outer = outer} {spared = spared} {places = places} {holds = holds} x none f = record {
  owners = put_blank x Null (hold_in outer spared (slice_set holds x hold.Null)) (set_others outer spared holds x hold.Null) f.owners (λ o e. cc e);
  said = put_said outer.given holds places x Null hold.Null (null_put places x) f.said;
  objects = put_objects types outer.referenced variables holds places x Null hold.Null (λ ne. plain_place types outer.referenced variables places x Null none tt) f.objects;
  referred = f.referred;
}

pub put_owner : {types : List TypeForm} {variables : List VariableForm} {outer : Outsiders} {spared : Id → Bool} {heap : List Object} {places : List Value} {holds : Holds} (x : ℕ) (v : Value) (r : Region) → IsPlain v → IsPlace types outer.referenced (variable_kind variables x) (place_at (slice_set places x v) x) → Hand types variables outer spared heap places holds (variable_access variables x) v → Fit types variables outer spared heap places holds → Fit types variables outer spared heap (slice_set places x v) (slice_set holds x (hold.Own r))
put_owner {types = types} {variables = variables} {outer = outer} {spared = spared} {places = places} {holds = holds} x v r plain there hand f = record {
  owners = put_hand x v (hold_in outer spared (slice_set holds x (hold.Own r))) (set_others outer spared holds x (hold.Own r)) f.owners
      (some_by (hold_in outer spared (slice_set holds x (hold.Own r)) (variable x)) r (set_here outer spared holds x (hold.Own r))) hand;
  said = put_said outer.given holds places x v (hold.Own r) (plain_put places x v plain) f.said;
  objects = put_objects types outer.referenced variables holds places x v (hold.Own r) (λ ne. there) f.objects;
  referred = f.referred;
}

-- A variable borrows what another place owns, or gets null.
says_alias : (heap : List Object) (g : Hold) (r : Region) (kind : Option ℕ) (o : Id) → (g ≡ hold.Alias r) ⊎ (g ≡ hold.Lost) → IsOf (access_at heap) kind o → Says (access_at heap) g kind o
says_alias heap g r kind o (inl e) of = rw e of
says_alias heap g r kind o (inr e) of = rw e tt

alias_owns : (g : Hold) (r : Region) → (g ≡ hold.Alias r) ⊎ (g ≡ hold.Lost) → Owns g → ⊥
alias_owns g r (inl e) own = rw e at own
alias_owns g r (inr e) own = rw e at own

pub put_alias : {types : List TypeForm} {variables : List VariableForm} {outer : Outsiders} {spared : Id → Bool} {heap : List Object} {places : List Value} {holds : Holds} (x : ℕ) (v : Value) (r : Region) → is_object variables x ≡ false → IsPlain v → MayName heap (variable_access variables x) v → Fit types variables outer spared heap places holds → Fit types variables outer spared heap (slice_set places x v) (slice_set holds x (hold.Alias r))
put_alias {types = types} {variables = variables} {outer = outer} {spared = spared} {heap = heap} {places = places} {holds = holds} x v r none plain may f = record {
  owners = put_fits x v (hold_in outer spared (slice_set holds x (hold.Alias r))) (set_others outer spared holds x (hold.Alias r)) f.owners
      (λ o e. says_alias heap (hold_in outer spared (slice_set holds x (hold.Alias r)) (variable x)) r (variable_access variables x) o (set_here outer spared holds x (hold.Alias r)) (may o e))
      (λ o own. absurd (alias_owns (hold_in outer spared (slice_set holds x (hold.Alias r)) (variable x)) r (set_here outer spared holds x (hold.Alias r)) own));
  said = put_said outer.given holds places x v (hold.Alias r) tt f.said;
  objects = put_objects types outer.referenced variables holds places x v (hold.Alias r) (λ ne. plain_place types outer.referenced variables places x v none plain) f.objects;
  referred = f.referred;
}

-- A variable that is null may be called so.
pub null_fit : {types : List TypeForm} {variables : List VariableForm} {outer : Outsiders} {spared : Id → Bool} {heap : List Object} {places : List Value} {holds : Holds} (y : ℕ) → is_object variables y ≡ false → place_at places y ≡ Null → Fit types variables outer spared heap places holds → Fit types variables outer spared heap places (slice_set holds y hold.Null)
null_fit {types = types} {variables = variables} {outer = outer} {spared = spared} {places = places} {holds = holds} y none is f = record {
  owners = nulls (variable y) (hold_in outer spared (slice_set holds y hold.Null)) (set_others outer spared holds y hold.Null) (λ o e. cc (is, e)) f.owners;
  said = set_said outer.given holds places places y hold.Null (λ x ne. refl) is f.said;
  objects = set_objects types outer.referenced variables holds places places y hold.Null (λ x ne. refl) (λ ne. rw is none) f.objects;
  referred = f.referred;
}

-- What owns is relied on to own.
own_owns : (h : Hold) → IsOwn h → Owns h
own_owns (hold.Kept r) own = tt
own_owns (hold.Own r) own = tt
own_owns h own = absurd own

-- The value of an owner is in hand once the owner is lost.
pub hand_of : {types : List TypeForm} {variables : List VariableForm} {outer : Outsiders} {spared : Id → Bool} {heap : List Object} {places : List Value} {holds : Holds} (y : ℕ) → IsOwn (hold_at holds y) → Fit types variables outer spared heap places holds → Hand types variables outer spared heap places (slice_set holds y hold.Lost) (variable_access variables y) (place_at places y)
hand_of {outer = outer} {spared = spared} {holds = holds} y own f =
    taken (variable y) (hold_in outer spared (slice_set holds y hold.Lost)) (own_owns (hold_at holds y) own)
    (λ a. lost_owns (hold_in outer spared (slice_set holds y hold.Lost) (variable y)) (set_lost outer spared holds y) a) (set_others outer spared holds y hold.Lost) f.owners

-- What owns is not lost.
own_kept : (h : Hold) → IsOwn h → h ≢ hold.Lost
own_kept h own lost = rw lost at own

-- Nor does it refer to a record.
owner_plain : (given : Value) (h : Hold) (v : Value) → IsOwn h → IsSaid given h v → IsPlain v
owner_plain given (hold.Kept r) v own said = said.1
owner_plain given (hold.Own r) v own said = said
owner_plain given h v own said = absurd own

-- X := Y, where Y is an owner of X's access type: also where X is Y.
pub move_fit : {types : List TypeForm} {variables : List VariableForm} {outer : Outsiders} {spared : Id → Bool} {heap : List Object} {places : List Value} {holds : Holds} (x y : ℕ) (r : Region) → is_object variables x ≡ false → is_object variables y ≡ false → IsOwn (hold_at holds y) → variable_access variables x ≡ variable_access variables y → Fit types variables outer spared heap places holds → Fit types variables outer spared heap (slice_set places x (place_at places y)) (slice_set (slice_set holds y hold.Lost) x (hold.Own r))
move_fit {types = types} {variables = variables} {outer = outer} {places = places} {holds = holds} x y r none other own same f = put_owner x (place_at places y) r (owner_plain (place_at outer.given y) (hold_at holds y) (place_at places y) own (f.said y)) (plain_place types outer.referenced variables places x (place_at places y) none (plain_object y (own_kept (hold_at holds y) own) other f)) (rw same (hand_of y own f)) (lose y f)

-- What is relied on to name an object names one that is there.
pub there_by : (heap : List Object) (kind : Option ℕ) (o : Id) → IsOf (access_at heap) kind o → IsThere heap o
there_by heap None o s = absurd s
there_by heap (Some t) o s = let h = present_at heap o t s in (h.object, h.found, h.there)

follows_by : (heap : List Object) (v : Value) → ((o : Id) → v ≡ Names o → IsThere heap o) → MayFollow heap v
follows_by heap Null there = tt
follows_by heap (Names o) there = there o refl
follows_by heap (Scalar v) there = tt
follows_by heap (Part o first) there = tt

-- What a component of an object that is there holds, and its access type.
got : (values : List Value) (c : ℕ) (v : Value) → slice_get values c ≡ Some v → slice_index_or values c Null ≡ v
got [] c v e = absurd (cc e)
got (w ∷ values) zero v e = cc e
got (w ∷ values) (suc c) v e = got values c v e

pub component_value : (heap : List Object) (activations : List (Activation Value)) (o : Id) (object : Object) (c : ℕ) (v : Value) → object_at heap o ≡ Some object → is_there object.stage ≡ true → slice_get object.cell.values c ≡ Some v → value_at heap activations (component o c) ≡ v
component_value heap activations o object c v found listed at =
    ap (λ t. component_in t c) found ∙ component_there object c listed ∙ got object.cell.values c v at

pub access_is : (heap : List Object) (o : Id) (object : Object) → object_at heap o ≡ Some object → is_there object.stage ≡ true → access_at heap o ≡ Some object.cell.access
access_is heap o object found listed = rw (found, listed) refl

-- What a component holds may be followed.
pub component_is : {types : List TypeForm} {variables : List VariableForm} {outer : Outsiders} {spared : Id → Bool} {heap : List Object} {places : List Value} {holds : Holds} (o : Id) (object : Object) (c : ℕ) (v : Value) (p : Id) → spared o ≡ false → object_at heap o ≡ Some object → is_there object.stage ≡ true → slice_get object.cell.values c ≡ Some v → v ≡ Names p → Fit types variables outer spared heap places holds → IsOf (access_at heap) (component_access types object c) p
component_is {outer = outer} {spared = spared} {heap = heap} {places = places} o object c v p kept found listed at is f =
    let own : Owns (component_hold (spared o)) = rw kept tt in
    let names = component_value heap (stacked places outer) o object c v found listed at ∙ is in
    rw (access_is heap o object found listed) at (kernel.owned_at f.owners.fit (component o c) own p names)

pub component_follows : {types : List TypeForm} {variables : List VariableForm} {outer : Outsiders} {spared : Id → Bool} {heap : List Object} {places : List Value} {holds : Holds} (o : Id) (object : Object) (c : ℕ) (v : Value) → spared o ≡ false → object_at heap o ≡ Some object → is_there object.stage ≡ true → slice_get object.cell.values c ≡ Some v → Fit types variables outer spared heap places holds → MayFollow heap v
component_follows {types = types} {outer = outer} {heap = heap} o object c v kept found listed at f =
    follows_by heap v (λ p is. there_by heap (component_access types object c) p (component_is o object c v p kept found listed at is f))

-- Where an object changes, and stays in its collection, what is referred to is there still; so it is where one is created, or leaves that none refers to.
pub same_access : (heap : List Object) (o : Id) (x y : Object) → object_at heap o ≡ Some x → access_in (Some y) ≡ access_in (Some x) → (k : Id) → access_at (slice_set heap o.0 y) k ≡ access_at heap k
same_access heap o x y found same k = go (same_id k o)
  where
    go : (k ≡ o) ⊎ (k ≢ o) → access_at (slice_set heap o.0 y) k ≡ access_at heap k
    go (inl e) = rw (e, at_here heap o x found y, found) same
    go (inr ne) = ap access_in (at_other heap o k y ne)

stored_access : (heap : List Object) (o : Id) (object : Object) (c : ℕ) (v : Value) → object_at heap o ≡ Some object → (k : Id) → access_at (store heap (Names o) c v) k ≡ access_at heap k
stored_access heap o object c v found k = rw found (same_access heap o object (filled c v object) found refl k)

abbrev pub AreReferred : Outsiders → List Object → Type 0
AreReferred outer heap = (k : Id) (t : ℕ) → IsReferred outer.referenced k t → access_at heap k ≡ Some t

stored_referred : (outer : Outsiders) (heap : List Object) (o : Id) (object : Object) (c : ℕ) (v : Value) → object_at heap o ≡ Some object → AreReferred outer heap → AreReferred outer (store heap (Names o) c v)
stored_referred outer heap o object c v found are k t is = stored_access heap o object c v found k ∙ are k t is

pub created_access : (heap : List Object) (words : ℕ) (cell : Cell Value) (k : Id) (t : ℕ) → access_at heap k ≡ Some t → access_at (create heap words cell) k ≡ Some t
created_access heap words cell k t at =
    let h = present_at heap k t at in
    ap access_in (at_older heap words cell k (not_past heap k h.object h.found)) ∙ at

created_referred : (outer : Outsiders) (heap : List Object) (words : ℕ) (cell : Cell Value) → AreReferred outer heap → AreReferred outer (create heap words cell)
created_referred outer heap words cell are k t is = created_access heap words cell k t (are k t is)

-- An object is not referred to.
abbrev pub IsUnreferred : Outsiders → Id → Type 0
IsUnreferred outer o = (t : ℕ) → IsReferred outer.referenced o t → ⊥

other_referred : (outer : Outsiders) (heap : List Object) (o : Id) (y : Object) → IsUnreferred outer o → AreReferred outer heap → AreReferred outer (slice_set heap o.0 y)
other_referred outer heap o y none are k t is = go (same_id k o)
  where
    go : (k ≡ o) ⊎ (k ≢ o) → access_at (slice_set heap o.0 y) k ≡ Some t
    go (inl e) = absurd (none t (rw e at is))
    go (inr ne) = ap access_in (at_other heap o k y ne) ∙ are k t is

-- What another place owns than a variable of a suspended activation is not owned outside: two places that own one object are one place.
owned_inside : {types : List TypeForm} {variables : List VariableForm} {outer : Outsiders} {spared : Id → Bool} {heap : List Object} {places : List Value} {holds : Holds} (p : Place) (o : Id) → ((d x : ℕ) → elsewhere d x ≢ p) → Owns (hold_in outer spared holds p) → value_at heap (stacked places outer) p ≡ Names o → Fit types variables outer spared heap places holds → IsOwnedOutside outer o → ⊥
owned_inside {outer = outer} {heap = heap} {places = places} p o inside own names f (d, x, owns, named) =
    inside d x (f.owners.fit.apart (elsewhere d x) p o owns own (outer_value_at heap places outer d x ∙ named) names)

-- So it is with what a variable of the running activation owns, and with what a component does.
pub variable_inside : {types : List TypeForm} {variables : List VariableForm} {outer : Outsiders} {spared : Id → Bool} {heap : List Object} {places : List Value} {holds : Holds} (x : ℕ) (o : Id) → IsOwn (hold_at holds x) → place_at places x ≡ Names o → Fit types variables outer spared heap places holds → IsOwnedOutside outer o → ⊥
variable_inside {holds = holds} x o own is f outside = owned_inside (variable x) o (λ d y e. cc e) (own_owns (hold_at holds x) own) is f outside

pub component_inside : {types : List TypeForm} {variables : List VariableForm} {outer : Outsiders} {spared : Id → Bool} {heap : List Object} {places : List Value} {holds : Holds} (o : Id) (object : Object) (c : ℕ) (p : Id) → spared o ≡ false → object_at heap o ≡ Some object → is_there object.stage ≡ true → slice_get object.cell.values c ≡ Some (Names p) → Fit types variables outer spared heap places holds → IsOwnedOutside outer p → ⊥
component_inside {outer = outer} {spared = spared} {heap = heap} {places = places} o object c p kept found listed at f outside =
    let own : Owns (component_hold (spared o)) = rw kept tt in
    owned_inside (component o c) p (λ d y e. cc e) own (component_value heap (stacked places outer) o object c (Names p) found listed at) f outside

-- One that is there, of an access type of which each object that is referred to is owned outside, is not referred to where it is not owned outside.
pub unreferred_by : {types : List TypeForm} {variables : List VariableForm} {outer : Outsiders} {spared : Id → Bool} {heap : List Object} {places : List Value} {holds : Holds} (kind : Option ℕ) (o : Id) → NoOuterAliases types outer kind → IsOf (access_at heap) kind o → (IsOwnedOutside outer o → ⊥) → Fit types variables outer spared heap places holds → IsUnreferred outer o
unreferred_by None o none of inside f t is = of
unreferred_by {types = types} {outer = outer} (Some u) o none of inside f t is =
    let at = f.referred o t is in
    let same : t ≡ u = cc (at, of) in
    let n = none u refl in
    inside (n.1.1 o (rw same at is) n.0)

-- A component gets what names nothing, or what is in hand.
pub store_blank : {types : List TypeForm} {variables : List VariableForm} {outer : Outsiders} {spared : Id → Bool} {heap : List Object} {places : List Value} {holds : Holds} (o : Id) (object : Object) (c : ℕ) (v : Value) → object_at heap o ≡ Some object → ((p : Id) → v ≡ Names p → ⊥) → Fit types variables outer spared heap places holds → Fit types variables outer spared (store heap (Names o) c v) places holds
store_blank {outer = outer} {spared = spared} {heap = heap} {holds = holds} o object c v found none f = record {
  owners = changes.store_blank heap o object found c v (hold_in outer spared holds) (λ q ne. refl) f.owners none;
  said = f.said;
  objects = f.objects;
  referred = stored_referred outer heap o object c v found f.referred;
}

pub store_owner : {types : List TypeForm} {variables : List VariableForm} {outer : Outsiders} {heap : List Object} {places : List Value} {holds : Holds} (o : Id) (object : Object) (c : ℕ) (v : Value) → object_at heap o ≡ Some object → is_there object.stage ≡ true → Hand types variables outer none_spared heap places holds (component_access types object c) v → Fit types variables outer none_spared heap places holds → Fit types variables outer none_spared (store heap (Names o) c v) places holds
store_owner {outer = outer} {heap = heap} {holds = holds} o object c v found listed hand f = record {
  owners = store_hand heap o object found c v (hold_in outer none_spared holds) (λ q ne. refl) f.owners (λ e. cc e) (rw (access_is heap o object found listed) hand);
  said = f.said;
  objects = f.objects;
  referred = stored_referred outer heap o object c v found f.referred;
}

-- What a variable that is not lost names is of its access type; so is what a component of an object in its collection names.
says_kind : (heap : List Object) (h : Hold) (spot : Spot) (kind : Option ℕ) (o : Id) → lost_by h spot ≡ None → Says (access_at heap) h kind o → IsOf (access_at heap) kind o
says_kind heap hold.Null spot kind o kept s = absurd s
says_kind heap (hold.Kept r) spot kind o kept s = s
says_kind heap (hold.Own r) spot kind o kept s = s
says_kind heap (hold.Alias r) spot kind o kept s = s
says_kind heap hold.Lost spot kind o kept s = absurd (cc kept)

pub root_names : {types : List TypeForm} {variables : List VariableForm} {outer : Outsiders} {spared : Id → Bool} {heap : List Object} {places : List Value} {holds : Holds} (x : ℕ) (spot : Spot) → lost_by (hold_at holds x) spot ≡ None → Fit types variables outer spared heap places holds → MayName heap (variable_access variables x) (place_at places x)
root_names {variables = variables} {outer = outer} {heap = heap} {holds = holds} x spot kept f o e =
    says_kind heap (hold_at holds x) spot (variable_access variables x) o kept (f.owners.fit.relied (variable x) o e)

-- What is relied on, in the form that the laws of owners take: no component is lent.
abbrev pub as_reliance : Outsiders → Holds → Reliance
as_reliance outer holds = record { holds = holds; outer = λ d. outer_holds (slice_get outer.suspended d); lent = [] }

same_reliance : (outer : Outsiders) → (holds : Holds) (p : Place) → hold_of (as_reliance outer holds) p ≡ hold_in outer none_spared holds p
same_reliance outer holds (variable x) = refl
same_reliance outer holds (component o c) = refl
same_reliance outer holds (elsewhere d x) = refl

to_reliance : (outer : Outsiders) → {kinds : Kinds} {heap : List Object} {activations : List (Activation Value)} (holds : Holds) → Fits kinds heap activations (hold_in outer none_spared holds) → Fits kinds heap activations (hold_of (as_reliance outer holds))
to_reliance outer holds f = record { fit = kernel.held_same f.fit (hold_of (as_reliance outer holds)) (λ p o e. same_reliance outer holds p) }

from_reliance : (outer : Outsiders) → {kinds : Kinds} {heap : List Object} {activations : List (Activation Value)} (holds : Holds) → Fits kinds heap activations (hold_of (as_reliance outer holds)) → Fits kinds heap activations (hold_in outer none_spared holds)
from_reliance outer holds f = record { fit = kernel.held_same f.fit (hold_in outer none_spared holds) (λ p o e. sym (same_reliance outer holds p)) }

from_reliance_with : (outer : Outsiders) → {kinds : Kinds} {heap : List Object} {activations : List (Activation Value)} (holds : Holds) (x : ℕ) (r : Region) → Fits kinds heap activations (hold_of (with_hold x (hold.Own Whole) (as_reliance outer holds))) → Fits kinds heap activations (hold_in outer none_spared (slice_set holds x (hold.Own r)))
from_reliance_with outer holds x Whole f = from_reliance outer (slice_set holds x (hold.Own Whole)) f

-- A take pair, T := O.C; O.C := null;, with another variable for T, or with a component.
pub take_variable : {types : List TypeForm} {variables : List VariableForm} {outer : Outsiders} {heap : List Object} {places : List Value} {holds : Holds} (x : ℕ) (r : Region) → is_object variables x ≡ false → (o : Id) (object : Object) (c : ℕ) (v : Value) → IsPlain v → object_at heap o ≡ Some object → is_there object.stage ≡ true → slice_get object.cell.values c ≡ Some v → variable_access variables x ≡ component_access types object c → Fit types variables outer none_spared heap places holds → Fit types variables outer none_spared (store heap (Names o) c Null) (slice_set places x v) (slice_set holds x (hold.Own r))
take_variable {types = types} {variables = variables} {outer = outer} {heap = heap} {places = places} {holds = holds} x r none o object c v plain found listed at same f =
    let t = object.cell.access in
    let at_t = access_is heap o object found listed in
    let pair = take_pairs_keep (kinds_of types variables outer) heap (stacked places outer) (as_reliance outer holds) (to_reliance outer holds f.owners) x o c t at_t (sym same) refl in
    record {
      owners = from_reliance_with outer holds x r (rw (component_value heap (stacked places outer) o object c v found listed at) at pair);
      said = put_said outer.given holds places x v (hold.Own r) (plain_put places x v plain) f.said;
      objects = put_objects types outer.referenced variables holds places x v (hold.Own r) (λ ne. plain_place types outer.referenced variables places x v none plain) f.objects;
      referred = stored_referred outer heap o object c Null found f.referred;
    }

pub take_component : {types : List TypeForm} {variables : List VariableForm} {outer : Outsiders} {heap : List Object} {places : List Value} {holds : Holds} (k : Id) (holder : Object) (d : ℕ) (o : Id) (object : Object) (c : ℕ) (v : Value) → object_at heap k ≡ Some holder → is_there holder.stage ≡ true → object_at heap o ≡ Some object → is_there object.stage ≡ true → slice_get object.cell.values c ≡ Some v → component_access types holder d ≡ component_access types object c → Fit types variables outer none_spared heap places holds → Fit types variables outer none_spared (store (store heap (Names k) d v) (Names o) c Null) places holds
take_component {types = types} {variables = variables} {outer = outer} {heap = heap} {places = places} {holds = holds} k holder d o object c v at_k listed_k found listed at same f =
    let u = holder.cell.access in
    let t = object.cell.access in
    let at_u = access_is heap k holder at_k listed_k in
    let at_t = access_is heap o object found listed in
    let pair = component_pairs_keep (kinds_of types variables outer) heap (stacked places outer) (as_reliance outer holds) (to_reliance outer holds f.owners) k o d c u t at_u at_t same refl in
    record { owners = from_reliance outer holds (rw (component_value heap (stacked places outer) o object c v found listed at) at pair); said = f.said; objects = f.objects; referred = taken_referred }
  where
    taken_referred : AreReferred outer (store (store heap (Names k) d v) (Names o) c Null)
    taken_referred = go (object_at (store heap (Names k) d v) o) refl
      where
        go : (t : Option Object) → object_at (store heap (Names k) d v) o ≡ t → AreReferred outer (changed (filled c Null) t (store heap (Names k) d v) o)
        go None is = stored_referred outer heap k holder d v at_k f.referred
        go (Some x) is = rw is at (stored_referred outer (store heap (Names k) d v) o x c Null is (stored_referred outer heap k holder d v at_k f.referred))

-- A new object, whose items were in hand: its name is in hand.
pub create_fit : {types : List TypeForm} {variables : List VariableForm} {outer : Outsiders} {heap : List Object} {places : List Value} {holds : Holds} (words : ℕ) (cell : Cell Value) → AreInHand heap (stacked places outer) (hold_in outer none_spared holds) (λ c. access_of (kind_among (reached_components types cell.access) c)) 0 cell.values → Fit types variables outer none_spared heap places holds → Fit types variables outer none_spared (create heap words cell) places holds × Hand types variables outer none_spared (create heap words cell) places holds (Some cell.access) (created heap words)
create_fit {outer = outer} {heap = heap} words cell items f =
    (record { owners = create_fits heap words cell (λ c e. cc e) f.owners items; said = f.said; objects = f.objects; referred = created_referred outer heap words cell f.referred }, created_hand heap words cell f.owners items)

-- What is relied on says no less than the same once a component is lent.
lent_good : (outer : Outsiders) → (holds : Holds) (o : Id) (c : ℕ) (p : Place) → is_as_good (hold_in outer none_spared holds p) (hold_of (with_lent o c (as_reliance outer holds)) p) ≡ true
lent_good outer holds o c (variable x) = good_same (hold_at holds x)
lent_good outer holds o c (component k d) = spared_good (is_lent (component o c ∷ []) k d)
lent_good outer holds o c (elsewhere d x) = good_same (outer_hold (slice_get outer.suspended d) x)

-- A new object, whose items were in hand as long as a component is lent, goes into that component.
pub insert_fit : {types : List TypeForm} {variables : List VariableForm} {outer : Outsiders} {heap : List Object} {places : List Value} {holds : Holds} (words : ℕ) (cell : Cell Value) (o : Id) (object : Object) (c : ℕ) → object_at heap o ≡ Some object → is_there object.stage ≡ true → component_access types object c ≡ Some cell.access → AreInHand heap (stacked places outer) (hold_of (with_lent o c (as_reliance outer holds))) (λ d. access_of (kind_among (reached_components types cell.access) d)) 0 cell.values → Fit types variables outer none_spared heap places holds → Fit types variables outer none_spared (store (create heap words cell) (Names o) c (created heap words)) places holds
insert_fit {types = types} {variables = variables} {outer = outer} {heap = heap} {places = places} {holds = holds} words cell o object c found listed same items f =
    let lent = weaken (hold_of (with_lent o c (as_reliance outer holds))) (lent_good outer holds o c) f.owners in
    let kept = insertions_keep (kinds_of types variables outer) heap (stacked places outer) (as_reliance outer holds) o c object.cell.access words cell lent (access_is heap o object found listed) same items in
    record { owners = from_reliance outer holds kept; said = f.said; objects = f.objects; referred = stored_referred outer (create heap words cell) o object c (created heap words) (at_older heap words cell o (not_past heap o object found) ∙ found) (created_referred outer heap words cell f.referred) }

-- Of what is in hand no place is an owner.
pub hand_is_unnamed : (outer : Outsiders) → (types : List TypeForm) (variables : List VariableForm) (spared : Id → Bool) (heap : List Object) (places : List Value) (holds : Holds) (kind : Option ℕ) (o : Id) → Hand types variables outer spared heap places holds kind (Names o) → ((q : Place) → Borrows (hold_in outer spared holds q) → value_at heap (stacked places outer) q ≡ Names o → ⊥) → IsUnnamed heap (stacked places outer) (hold_in outer spared holds) o
hand_is_unnamed outer types variables spared heap places holds kind o hand none = record {
  unowned = λ q a b. hand.hand.free o refl q a b;
  unborrowed = none;
}

-- An object leaves its collection; it ceases to exist, where no owner names it; and its words go back.
pub part_fit : {types : List TypeForm} {variables : List VariableForm} {outer : Outsiders} {spared : Id → Bool} {heap : List Object} {places : List Value} {holds : Holds} (o : Id) (x : Object) → object_at heap o ≡ Some x → Fit types variables outer spared heap places holds → Fit types variables outer spared (slice_set heap o.0 (parted x)) places holds
part_fit {outer = outer} {heap = heap} o x found f = record {
  owners = rw (changed_is heap o x found (parted x) parted refl) at (part_fits heap o x found f.owners);
  said = f.said;
  objects = f.objects;
  referred = λ k t is. same_access heap o x (parted x) found refl k ∙ f.referred k t is;
}

pub finish_fit : {types : List TypeForm} {variables : List VariableForm} {outer : Outsiders} {spared : Id → Bool} {heap : List Object} {places : List Value} {holds : Holds} (o : Id) (x : Object) → object_at heap o ≡ Some x → IsUnnamed heap (stacked places outer) (hold_in outer spared holds) o → IsUnreferred outer o → Fit types variables outer spared heap places holds → Fit types variables outer spared (slice_set heap o.0 (finished x)) places holds
finish_fit {outer = outer} {heap = heap} o x found none unreferred f = record {
  owners = rw (changed_is heap o x found (finished x) finished refl) at (finish_fits heap o x found f.owners none);
  said = f.said;
  objects = f.objects;
  referred = other_referred outer heap o (finished x) unreferred f.referred;
}

pub back_fit : {types : List TypeForm} {variables : List VariableForm} {outer : Outsiders} {spared : Id → Bool} {heap : List Object} {places : List Value} {holds : Holds} (o : Id) (x : Object) → object_at heap o ≡ Some x → Fit types variables outer spared heap places holds → Fit types variables outer spared (slice_set heap o.0 (returned x)) places holds
back_fit {outer = outer} {heap = heap} o x found f = record {
  owners = rw (changed_is heap o x found (returned x) returned refl) at (back_fits heap o x found f.owners);
  said = f.said;
  objects = f.objects;
  referred = λ k t is. same_access heap o x (returned x) found refl k ∙ f.referred k t is;
}

-- An object that is gone changes no place: what fits does so beside one.
module _ (heap : List Object) (y : Object) (off : is_there y.stage ≡ false) where
  beside_access : (k : Id) → access_at (heap ++ y ∷ []) k ≡ access_at heap k
  beside_access k = read_beside access_in heap y (ap (λ (b : Bool). if b then Some y.cell.access else None) off) k.0

  beside_component : (c : ℕ) (k : Id) → component_in (object_at (heap ++ y ∷ []) k) c ≡ component_in (object_at heap k) c
  beside_component c k = read_beside (λ (t : Option Object). component_in t c) heap y (ap (λ (b : Bool). if b then slice_index_or y.cell.values c Null else Null) off) k.0

  beside_value : (activations : List (Activation Value)) (p : Place) → value_at (heap ++ y ∷ []) activations p ≡ value_at heap activations p
  beside_value activations (variable x) = refl
  beside_value activations (component k c) = beside_component c k
  beside_value activations (elsewhere d x) = refl

  pub beside_fit : {types : List TypeForm} {variables : List VariableForm} {outer : Outsiders} {spared : Id → Bool} {places : List Value} {holds : Holds} → Fit types variables outer spared heap places holds → Fit types variables outer spared (heap ++ y ∷ []) places holds
  beside_fit {types = types} {variables = variables} {outer = outer} {places = places} f = record {
    owners = record {
      fit = kernel.same f.owners.fit (access_at (heap ++ y ∷ [])) (value_at (heap ++ y ∷ []) (stacked places outer)) (kind_of (kinds_of types variables outer) (access_at (heap ++ y ∷ [])))
          beside_access (beside_value (stacked places outer)) (kinds_same (kinds_of types variables outer) (access_at heap) (access_at (heap ++ y ∷ [])) beside_access);
    };
    said = f.said;
    objects = f.objects;
    referred = λ k t is. beside_access k ∙ f.referred k t is;
  }

-- A controlled part of an object changes (7.6): nothing that is relied on does.
pub treated_fit : {types : List TypeForm} {variables : List VariableForm} {outer : Outsiders} {spared : Id → Bool} {heap : List Object} {places : List Value} {holds : Holds} (change : PartState → PartState) (part : ℕ) (o : Id) (x : Object) → object_at heap o ≡ Some x → Fit types variables outer spared heap places holds → Fit types variables outer spared (slice_set heap o.0 (treated change part x)) places holds
treated_fit {outer = outer} {heap = heap} change part o x found f = record {
  owners = changes.looks_same heap o x found (treated change part x) refl (λ c. refl) f.owners;
  said = f.said;
  objects = f.objects;
  referred = λ k t is. same_access heap o x (treated change part x) found refl k ∙ f.referred k t is;
}

-- Behind the end of an object less is known of its access type's aliases, and as much of all else.
pub behind_good : (variables : List VariableForm) (kind : Option ℕ) (holds : Holds) (x : ℕ) → is_as_good (hold_at holds x) (hold_at (behind_end variables kind holds) x) ≡ true
behind_good variables None holds x = good_same (hold_at holds x)
behind_good variables (Some t) holds x = forget_good variables t holds x

pub behind_fit : {types : List TypeForm} {variables : List VariableForm} {outer : Outsiders} {spared : Id → Bool} {heap : List Object} {places : List Value} {holds : Holds} (kind : Option ℕ) → Fit types variables outer spared heap places holds → Fit types variables outer spared heap places (behind_end variables kind holds)
behind_fit {variables = variables} {outer = outer} {holds = holds} kind f = weaker_fit (behind_end variables kind holds) (behind_good variables kind holds) f

behind_owner : (variables : List VariableForm) (kind : Option ℕ) (holds : Holds) (x : ℕ) → Owns (hold_at (behind_end variables kind holds) x) → Owns (hold_at holds x)
behind_owner variables None holds x a = a
behind_owner variables (Some t) holds x a = forget_owner variables t holds x a

behind_owns : (outer : Outsiders) → (variables : List VariableForm) (spared : Id → Bool) (kind : Option ℕ) (holds : Holds) (q : Place) → Owns (hold_in outer spared (behind_end variables kind holds) q) → Owns (hold_in outer spared holds q)
behind_owns outer variables spared kind holds (variable x) a = behind_owner variables kind holds x a
behind_owns outer variables spared kind holds (component o c) a = a
behind_owns outer variables spared kind holds (elsewhere d x) a = a

component_borrows : (b : Bool) → Borrows (component_hold b) → ⊥
component_borrows true b = b
component_borrows false b = b

-- Where an object of an access type ends that is there, no alias names it behind its end.
behind_borrows : {types : List TypeForm} {variables : List VariableForm} {outer : Outsiders} {spared : Id → Bool} {heap : List Object} {places : List Value} {holds : Holds} (kind : Option ℕ) (o : Id) → NoOuterAliases types outer kind → IsOf (access_at heap) kind o → Fit types variables outer spared heap places holds → (q : Place) → Borrows (hold_in outer spared (behind_end variables kind holds) q) → value_at heap (stacked places outer) q ≡ Names o → ⊥
behind_borrows None o none of f q b names = of
behind_borrows {spared = spared} (Some t) o none of f (component k c) b names = component_borrows (spared k) b
behind_borrows {outer = outer} {heap = heap} (Some t) o none of f (elsewhere d x) b names =
    let w = slice_get outer.suspended d in
    (none t refl).1.0 d x (kind_is (access_at heap) (outer_hold w x) (outer_access w x) o t b of (f.owners.fit.relied (elsewhere d x) o names)) b
behind_borrows {variables = variables} {outer = outer} {heap = heap} {holds = holds} (Some t) o none of f (variable x) b names =
    let after = behind_fit (Some t) f in
    let same = kind_is (access_at heap) (hold_at (without_aliases variables t holds) x) (variable_access variables x) o t b of (after.owners.fit.relied (variable x) o names) in
    forget_borrows variables t holds x b same

-- Free (X), where X owns: X is null then, its object has no owner, and no alias names it.
pub freed_unnamed : {types : List TypeForm} {variables : List VariableForm} {outer : Outsiders} {spared : Id → Bool} {heap : List Object} {places : List Value} {holds : Holds} (x : ℕ) (o : Id) → NoOuterAliases types outer (variable_access variables x) → is_object variables x ≡ false → IsOwn (hold_at holds x) → place_at places x ≡ Names o → Fit types variables outer spared heap places holds → Fit types variables outer spared heap (slice_set places x Null) (freed variables x holds) × IsUnnamed heap (stacked (slice_set places x Null) outer) (hold_in outer spared (freed variables x holds)) o × IsThere heap o × IsUnreferred outer o
freed_unnamed {variables = variables} {outer = outer} {spared = spared} {heap = heap} {places = places} {holds = holds} x o spares none_object own is f =
    let owns = own_owns (hold_at holds x) own in
    let of = kernel.owned_at f.owners.fit (variable x) owns o is in
    let none : IsUnnamed heap (stacked (slice_set places x Null) outer) (hold_in outer spared (freed variables x holds)) o = record {
      unowned = λ q a b. unowned owns q (same_place q (variable x)) a b;
      unborrowed = λ q a b. unborrowed of q (same_place q (variable x)) a b;
    } in
    (put_null x none_object (behind_fit (variable_access variables x) f), none, there_by heap (variable_access variables x) o of, unreferred_by (variable_access variables x) o spares of (variable_inside x o own is f) f)
  where
    behind : Holds
    behind = behind_end variables (variable_access variables x) holds

    unowned : Owns (hold_at holds x) → (q : Place) → (q ≡ variable x) ⊎ (q ≢ variable x) → Owns (hold_in outer spared (slice_set behind x hold.Null) q) → value_at heap (stacked (slice_set places x Null) outer) q ≡ Names o → ⊥
    unowned owns q (inl e) a b = let null : Null ≡ Names o = put_value heap (stacked places outer) x Null o (rw e at b) in cc null
    unowned owns q (inr ne) a b =
        let before = sym (put_reads heap (stacked places outer) x Null q ne) ∙ b in
        ne (f.owners.fit.apart q (variable x) o (behind_owns outer variables spared (variable_access variables x) holds q (rw (set_others outer spared behind x hold.Null q ne) at a)) owns before is)

    unborrowed : IsOf (access_at heap) (variable_access variables x) o → (q : Place) → (q ≡ variable x) ⊎ (q ≢ variable x) → Borrows (hold_in outer spared (slice_set behind x hold.Null) q) → value_at heap (stacked (slice_set places x Null) outer) q ≡ Names o → ⊥
    unborrowed of q (inl e) a b = let null : Null ≡ Names o = put_value heap (stacked places outer) x Null o (rw e at b) in cc null
    unborrowed of q (inr ne) a b =
        behind_borrows (variable_access variables x) o spares of f q (rw (set_others outer spared behind x hold.Null q ne) at a)
        (sym (put_reads heap (stacked places outer) x Null q ne) ∙ b)

-- Free (O.C): C is null then, its object has no owner, and no alias names it.
pub component_unnamed : {types : List TypeForm} {variables : List VariableForm} {outer : Outsiders} {heap : List Object} {places : List Value} {holds : Holds} (o : Id) (object : Object) (c : ℕ) (p : Id) (kind : Option ℕ) → NoOuterAliases types outer kind → object_at heap o ≡ Some object → is_there object.stage ≡ true → slice_get object.cell.values c ≡ Some (Names p) → IsOf (access_at heap) kind p → Fit types variables outer none_spared heap places holds → Fit types variables outer none_spared (store heap (Names o) c Null) places (behind_end variables kind holds) × IsUnnamed (store heap (Names o) c Null) (stacked places outer) (hold_in outer none_spared (behind_end variables kind holds)) p × IsUnreferred outer p
component_unnamed {variables = variables} {outer = outer} {heap = heap} {places = places} {holds = holds} o object c p kind spares found listed at of f = (
  store_blank o object c Null found (λ k e. cc e) (behind_fit kind f),
  record {
    unowned = λ q a b. unowned q (same_place q (component o c)) a b;
    unborrowed = λ q a b. unborrowed q (same_place q (component o c)) a b;
  },
  unreferred_by kind p spares of (component_inside o object c p refl found listed at f) f,
)
  where
    names : value_at heap (stacked places outer) (component o c) ≡ Names p
    names = component_value heap (stacked places outer) o object c (Names p) found listed at

    before : (q : Place) → q ≢ component o c → value_at (store heap (Names o) c Null) (stacked places outer) q ≡ Names p → value_at heap (stacked places outer) q ≡ Names p
    before q ne b = sym (changes.store_reads heap o object found c Null (stacked places outer) q ne) ∙ b

    cleared : value_at (store heap (Names o) c Null) (stacked places outer) (component o c) ≡ Names p → ⊥
    cleared b = let null : Null ≡ Names p = changes.store_value heap o object found c Null (stacked places outer) p b in cc null

    unowned : (q : Place) → (q ≡ component o c) ⊎ (q ≢ component o c) → Owns (hold_in outer none_spared (behind_end variables kind holds) q) → value_at (store heap (Names o) c Null) (stacked places outer) q ≡ Names p → ⊥
    unowned q (inl e) a b = cleared (rw e at b)
    unowned q (inr ne) a b = ne (f.owners.fit.apart q (component o c) p (behind_owns outer variables none_spared kind holds q a) tt (before q ne b) names)

    unborrowed : (q : Place) → (q ≡ component o c) ⊎ (q ≢ component o c) → Borrows (hold_in outer none_spared (behind_end variables kind holds) q) → value_at (store heap (Names o) c Null) (stacked places outer) q ≡ Names p → ⊥
    unborrowed q (inl e) a b = cleared (rw e at b)
    unborrowed q (inr ne) a b = behind_borrows kind p spares of f q a (before q ne b)

-- Components of other objects are spared, none of which names anything.
pub respare : {types : List TypeForm} {variables : List VariableForm} {outer : Outsiders} {heap : List Object} {places : List Value} {holds : Holds} (spared to : Id → Bool) → ((o : Id) (c : ℕ) (k : Id) → component_in (object_at heap o) c ≡ Names k → to o ≡ spared o) → Fit types variables outer spared heap places holds → Fit types variables outer to heap places holds
respare {outer = outer} {heap = heap} {places = places} {holds = holds} spared to same f = record {
  owners = record { fit = kernel.held_same f.owners.fit (hold_in outer to holds) go };
  said = f.said;
  objects = f.objects;
  referred = f.referred;
}
  where
    go : (p : Place) (k : Id) → value_at heap (stacked places outer) p ≡ Names k → hold_in outer to holds p ≡ hold_in outer spared holds p
    go (variable x) k e = refl
    go (component o c) k e = ap component_hold (same o c k e)
    go (elsewhere d x) k e = refl

-- A component that names something is one of an object that is there.
is_present : (b : Bool) (v : Value) (k : Id) → (if b then v else Null) ≡ Names k → b ≡ true
is_present true v k e = refl
is_present false v k e = absurd (cc e)

-- Which objects are of a master that is left stays, where one changes, and keeps its home, and its words are out as before, if it is there; and where an item goes
-- that has no object any more.
going_stays : (heap : List Object) (items : List Item) (o : Id) (x y : Object) → object_at heap o ≡ Some x → y.cell.home ≡ x.cell.home → (is_there y.stage ≡ true → y.out ≡ x.out)
    → (k : Id) (c : ℕ) (n : Id) → component_in (object_at (slice_set heap o.0 y) k) c ≡ Names n → going (slice_set heap o.0 y) items k ≡ going heap items k
going_stays heap items o x y found same out k c n names = go (same_id k o)
  where
    go : (k ≡ o) ⊎ (k ≢ o) → going (slice_set heap o.0 y) items k ≡ going heap items k
    go (inl e) =
        let here : object_at (slice_set heap o.0 y) k ≡ Some y = rw (e, at_here heap o x found y) refl in
        let names_here : component_in (Some y) c ≡ Names n = rw here at names in
        let there = is_present (is_there y.stage) (slice_index_or y.cell.values c Null) n names_here in
        rw (e, at_here heap o x found y, found, out there, same) refl
    go (inr ne) = ap (λ t. lies_among t items) (at_other heap o k y ne)

first_only : (b rest : Bool) → (b ≡ true → ⊥) → rest ≡ b || rest
first_only true rest none = absurd (none refl)
first_only false rest none = refl

shorter_stays : (item : Item) (items : List Item) (t : Option Object) (c : ℕ) (k : Id) → ((x : Object) → t ≡ Some x → is_there x.stage ≡ true → x.out ≡ true → x.cell.home.item ≡ item.number → ⊥) → component_in t c ≡ Names k → lies_among t items ≡ lies_among t (item ∷ items)
shorter_stays item items None c k none e = refl
shorter_stays item items (Some x) c k none e = by x.out refl
  where
    by : (out : Bool) → x.out ≡ out → lies_among (Some x) items ≡ lies_among (Some x) (item ∷ items)
    by true out =
        let there = is_present (is_there x.stage) (slice_index_or x.cell.values c Null) k e in
        rw out (first_only (item.number == x.cell.home.item) (is_number_of items x.cell.home.item) (λ is. none x refl there out (sym (eqb-true item.number x.cell.home.item is))))
    by false out = rw out refl

-- No object lies among no items.
pub lies_nowhere : (t : Option Object) → false ≡ lies_among t []
lies_nowhere None = refl
lies_nowhere (Some x) = by x.out refl
  where
    by : (out : Bool) → x.out ≡ out → false ≡ lies_among (Some x) []
    by true is = rw is refl
    by false is = rw is refl

-- While a master is left, homes stay as they are; an item goes whose collection is empty; and where none is left, all is relied on again.
pub sparing_set : (ahead : Owned → Bool) (outer : Outsiders) → {types : List TypeForm} {variables : List VariableForm} {places : List Value} {holds : Holds} (heap : List Object) (items : List Item) (o : Id) (x y : Object) → object_at heap o ≡ Some x → y.cell.home ≡ x.cell.home
    → (is_there y.stage ≡ true → y.out ≡ x.out) → Fit types variables outer (sparing ahead heap items) (slice_set heap o.0 y) places holds → Fit types variables outer (sparing ahead (slice_set heap o.0 y) items) (slice_set heap o.0 y) places holds
sparing_set ahead outer heap items o x y found same out f =
    respare (sparing ahead heap items) (sparing ahead (slice_set heap o.0 y) items) (λ k c n e. going_stays heap (behind_all ahead items) o x y found same out k c n e) f

pub sparing_shorter : (ahead : Owned → Bool) → {types : List TypeForm} {variables : List VariableForm} {outer : Outsiders} {heap : List Object} {places : List Value} {holds : Holds} (item : Item) (items : List Item) → ((o : Id) (x : Object) → object_at heap o ≡ Some x → is_there x.stage ≡ true → x.out ≡ true → x.cell.home.item ≡ item.number → ⊥) → Fit types variables outer (sparing ahead heap (item ∷ items)) heap places holds → Fit types variables outer (sparing ahead heap items) heap places holds
sparing_shorter ahead {types} {variables} {outer} {heap} {places} {holds} item items none f = by (ahead item.owned) refl (some_ahead ahead items) refl
  where
    by : (here : Bool) → ahead item.owned ≡ here → (later : Bool) → some_ahead ahead items ≡ later → Fit types variables outer (sparing ahead heap items) heap places holds
    by true here later rest =
        spare_fit (sparing ahead heap items)
        (respare (sparing ahead heap (item ∷ items)) none_spared (λ o c k e. rw here (lies_nowhere (object_at heap o))) f)
    by false here true rest = respare (sparing ahead heap (item ∷ items)) (sparing ahead heap items) (λ o c k e. rw (here, rest) refl) f
    by false here false rest =
        respare (sparing ahead heap (item ∷ items)) (sparing ahead heap items)
        (λ o c k e. rw (here, rest) (shorter_stays item items (object_at heap o) c k (none o) e)) f

pub sparing_left : (ahead : Owned → Bool) → {types : List TypeForm} {variables : List VariableForm} {outer : Outsiders} {heap : List Object} {places : List Value} {holds : Holds} → Fit types variables outer (sparing ahead heap []) heap places holds → Fit types variables outer none_spared heap places holds
sparing_left ahead {outer = outer} {heap = heap} f = respare (sparing ahead heap []) none_spared (λ o c k e. lies_nowhere (object_at heap o)) f

-- What no place is relied on to name is so still, where homes stay as they are.
pub sparing_unnamed : (ahead : Owned → Bool) (outer : Outsiders) (heap : List Object) (items : List Item) (o : Id) (x y : Object) → object_at heap o ≡ Some x → y.cell.home ≡ x.cell.home → (is_there y.stage ≡ true → y.out ≡ x.out) → (places : List Value) (holds : Holds) (p : Id) → IsUnnamed (slice_set heap o.0 y) (stacked places outer) (hold_in outer (sparing ahead heap items) holds) p → IsUnnamed (slice_set heap o.0 y) (stacked places outer) (hold_in outer (sparing ahead (slice_set heap o.0 y) items) holds) p
sparing_unnamed ahead outer heap items o x y found same out places holds p none = record {
  unowned = λ q own e. none.unowned q (rw (one q e) at own) e;
  unborrowed = λ q b e. none.unborrowed q (rw (one q e) at b) e;
}
  where
    one : (q : Place) → value_at (slice_set heap o.0 y) (stacked places outer) q ≡ Names p → hold_in outer (sparing ahead (slice_set heap o.0 y) items) holds q ≡ hold_in outer (sparing ahead heap items) holds q
    one (variable z) e = refl
    one (component k c) e = ap component_hold (going_stays heap (behind_all ahead items) o x y found same out k c p e)
    one (elsewhere d z) e = refl

-- So it is where less is relied on: what was called null names nothing.
module _ (heap : List Object) (kind : Option ℕ) (o : Id) where
  less_owns : (g h : Hold) → is_as_good g h ≡ true → Says (access_at heap) g kind o → Owns h → Owns g
  less_owns hold.Null h good says own = absurd says
  less_owns (hold.Kept r) h good says own = tt
  less_owns (hold.Own r) h good says own = tt
  less_owns (hold.Alias r) (hold.Kept q) good says own = absurd (cc good)
  less_owns (hold.Alias r) (hold.Own q) good says own = absurd (cc good)
  less_owns (hold.Alias r) hold.Null good says own = absurd own
  less_owns (hold.Alias r) (hold.Alias q) good says own = absurd own
  less_owns (hold.Alias r) hold.Lost good says own = absurd own
  less_owns hold.Lost (hold.Kept q) good says own = absurd (cc good)
  less_owns hold.Lost (hold.Own q) good says own = absurd (cc good)
  less_owns hold.Lost hold.Null good says own = absurd own
  less_owns hold.Lost (hold.Alias q) good says own = absurd own
  less_owns hold.Lost hold.Lost good says own = absurd own

  less_borrows : (g h : Hold) → is_as_good g h ≡ true → Says (access_at heap) g kind o → Borrows h → Borrows g
  less_borrows hold.Null h good says b = absurd says
  less_borrows (hold.Alias r) h good says b = tt
  less_borrows (hold.Kept r) hold.Null good says b = absurd b
  less_borrows (hold.Kept r) (hold.Kept q) good says b = absurd b
  less_borrows (hold.Kept r) (hold.Own q) good says b = absurd b
  less_borrows (hold.Kept r) (hold.Alias q) good says b = absurd (cc good)
  less_borrows (hold.Kept r) hold.Lost good says b = absurd b
  less_borrows (hold.Own r) hold.Null good says b = absurd b
  less_borrows (hold.Own r) (hold.Kept q) good says b = absurd b
  less_borrows (hold.Own r) (hold.Own q) good says b = absurd b
  less_borrows (hold.Own r) (hold.Alias q) good says b = absurd (cc good)
  less_borrows (hold.Own r) hold.Lost good says b = absurd b
  less_borrows hold.Lost hold.Null good says b = absurd b
  less_borrows hold.Lost (hold.Kept q) good says b = absurd b
  less_borrows hold.Lost (hold.Own q) good says b = absurd b
  less_borrows hold.Lost (hold.Alias q) good says b = absurd (cc good)
  less_borrows hold.Lost hold.Lost good says b = absurd b

pub less_unnamed : {types : List TypeForm} {variables : List VariableForm} {outer : Outsiders} {spared : Id → Bool} {heap : List Object} {places : List Value} {holds : Holds} (less : Holds) → ((x : ℕ) → is_as_good (hold_at holds x) (hold_at less x) ≡ true) → (o : Id) → Fit types variables outer spared heap places holds → IsUnnamed heap (stacked places outer) (hold_in outer spared holds) o → IsUnnamed heap (stacked places outer) (hold_in outer spared less) o
less_unnamed {types = types} {variables = variables} {outer = outer} {spared = spared} {heap = heap} {holds = holds} less good o f none = record {
  unowned = λ q own e. none.unowned q (less_owns heap (kind_of (kinds_of types variables outer) (access_at heap) q) o (hold_in outer spared holds q) (hold_in outer spared less q) (weaker_holds outer spared holds less good q) (f.owners.fit.relied q o e) own) e;
  unborrowed = λ q b e. none.unborrowed q (less_borrows heap (kind_of (kinds_of types variables outer) (access_at heap) q) o (hold_in outer spared holds q) (hold_in outer spared less q) (weaker_holds outer spared holds less good q) (f.owners.fit.relied q o e) b) e;
}

-- So it is where an object changes that looks the same, and where a component gets a value that names nothing.
module _ (heap : List Object) (o : Id) (x : Object) (found : object_at heap o ≡ Some x) {activations : List (Activation Value)} {hold : Place → Hold} (p : Id) (none : IsUnnamed heap activations hold p) where
  pub same_unnamed : (y : Object) → access_in (Some y) ≡ access_in (Some x) → ((c : ℕ) → component_in (Some y) c ≡ component_in (Some x) c) → IsUnnamed (slice_set heap o.0 y) activations hold p
  same_unnamed y access components = record {
    unowned = λ q own e. none.unowned q own (sym (changes.values_set heap o x found y access components activations q) ∙ e);
    unborrowed = λ q b e. none.unborrowed q b (sym (changes.values_set heap o x found y access components activations q) ∙ e);
  }

  pub wrote_unnamed : (c : ℕ) (v : Value) → ((k : Id) → v ≡ Names k → ⊥) → IsUnnamed (slice_set heap o.0 (filled c v x)) activations hold p
  wrote_unnamed c v nameless = rw (store_is heap o x found c v) at stored
    where
      before : (q : Place) → (q ≡ component o c) ⊎ (q ≢ component o c) → value_at (store heap (Names o) c v) activations q ≡ Names p → value_at heap activations q ≡ Names p
      before q (inl e) names = absurd (nameless p (changes.store_value heap o x found c v activations p (rw e at names)))
      before q (inr ne) names = sym (changes.store_reads heap o x found c v activations q ne) ∙ names

      stored : IsUnnamed (store heap (Names o) c v) activations hold p
      stored = record {
        unowned = λ q own e. none.unowned q own (before q (same_place q (component o c)) e);
        unborrowed = λ q b e. none.unborrowed q b (before q (same_place q (component o c)) e);
      }

-- Where an object is gone, what it was does not matter.
pub gone_fit : {types : List TypeForm} {variables : List VariableForm} {outer : Outsiders} {spared : Id → Bool} {places : List Value} {holds : Holds} (heap : List Object) (o : Id) (x y : Object) → object_at heap o ≡ Some x → Fit types variables outer spared (slice_set heap o.0 (finished x)) places holds → Fit types variables outer spared (slice_set heap o.0 (finished y)) places holds
gone_fit {types} {variables} {outer} {spared} {places} {holds} heap o x y found f =
    let still = at_here heap o x found (finished x) in
    let again = set_twice heap o.0 (finished x) (finished y) in
    let later : Fit types variables outer spared (slice_set (slice_set heap o.0 (finished x)) o.0 (finished y)) places holds = record {
      owners = changes.looks_same (slice_set heap o.0 (finished x)) o (finished x) still (finished y) refl (λ c. refl) f.owners;
      said = f.said;
      objects = f.objects;
      referred = λ k t is. same_access (slice_set heap o.0 (finished x)) o (finished x) (finished y) still refl k ∙ f.referred k t is;
    } in
    rw again at later

-- Nothing is outside of the main body.
abbrev pub no_outsiders : Outsiders
no_outsiders = record { given = []; suspended = []; referenced = []; under = [] }

-- Before anything is allocated, all variables are lost.
pub first_fit : (types : List TypeForm) (variables : List VariableForm) (places : List Value) (holds : Holds) → ((x : ℕ) → hold_at holds x ≡ hold.Lost) → Fit types variables no_outsiders none_spared [] places holds
first_fit types variables places holds lost = record {
  owners = record { fit = record { relied = relied_first; apart = λ p q o a b c d. absurd (none_owns p o a c) } };
  said = λ x. rw (lost x) tt;
  objects = λ x ne. absurd (ne (lost x));
  referred = λ o t is. absurd is;
}
  where
    relied_first : (p : Place) (o : Id) → value_at [] (stacked places no_outsiders) p ≡ Names o → Says (access_at []) (hold_in no_outsiders none_spared holds p) (kind_of (kinds_of types variables no_outsiders) (access_at []) p) o
    relied_first (variable x) o e = rw (lost x) tt
    relied_first (component k c) o e = absurd (cc e)
    relied_first (elsewhere d x) o e = tt

    none_owns : (p : Place) (o : Id) → Owns (hold_in no_outsiders none_spared holds p) → value_at [] (stacked places no_outsiders) p ≡ Names o → ⊥
    none_owns (variable x) o own e = lost_owns (hold_at holds x) (lost x) own
    none_owns (component k c) o own e = cc e
    none_owns (elsewhere d x) o own e = own
