-- What is relied on, as lists: a variable's hold, lent components, aliases that are forgotten, types that a block takes along.

use Rattle.std.proofs.Common.{◌≡◌, ◌≢◌, ℕ, zero, suc, Bool, true, false, List, [], ◌∷◌, refl, sym, ap, ◌∙◌, ◌⊎◌, inl, inr}
use Rattle.std.specs.Prelude.{Option, Some, ◌==◌, ◌&&◌, ◌||◌, not}
use Rattle.std.specs.List.{slice_set}
use Rattle.std.proofs.lemmas.Bool.{eqb-true, eq-eqb}
use Rattle.ada_program.specs.ProgramForm.{VariableForm}
use Rattle.ada_program.specs.WellFormed.{access_of, is_this}
use Rattle.ada_flow.specs.declared.rule.Hold.{Hold}
use Rattle.ada_flow.specs.declared.rule.Hold.TheVariants as held
use Rattle.ada_flow.specs.declared.rule.Region.TheVariants.{Whole}
use Rattle.ada_flow.specs.Flow.{Holds, hold_at, variable_access, if_own, is_as_good, is_among, Gone, without_types, without_variables, left, without_alias, without_aliases}
use Rattle.ada_meaning.specs.declared.state.Id.{Id}
use Rattle.ada_meaning.specs.declared.state.Value.{Value}
use Rattle.ada_meaning.specs.declared.state.Value.TheVariants.{Names}
use Rattle.ada_meaning.specs.State.{Activation}
use Rattle.ada_meaning.specs.Named.{Object, object_at, store}
use Rattle.ada_owners.specs.Places.{Place, variable, component, elsewhere, value_at, access_at, put_in, is_component, is_lent}
use Rattle.ada_owners.specs.Reliance.{Owns, Borrows, Kinds, component_kind, kind_of, Reliance, component_hold, hold_of, with_hold, with_lent, Fits, IsInHand}
use Rattle.ada_owners.proofs.Kernel.{same_or_not, same_place, says_right, lost_owns}
use Rattle.ada_owners.proofs.Objects.{read_same, read_other}
use Rattle.ada_owners.proofs.Changes.{weaken, hand_worse, taken, nulls, held_anew, put_hand, put_copy, put_blank, store_hand}

pub good_same : (h : Hold) → is_as_good h h ≡ true
good_same held.Null = refl
good_same (held.Kept Whole) = refl
good_same (held.Own Whole) = refl
good_same (held.Alias Whole) = refl
good_same held.Lost = refl

pub good_lost : (h : Hold) → is_as_good h held.Lost ≡ true
good_lost held.Null = refl
good_lost (held.Kept Whole) = refl
good_lost (held.Own Whole) = refl
good_lost (held.Alias Whole) = refl
good_lost held.Lost = refl

-- A variable's hold.
pub hold_others : (r : Reliance) (x : ℕ) (h : Hold) (q : Place) → q ≢ variable x → hold_of (with_hold x h r) q ≡ hold_of r q
hold_others r x h (variable y) ne = read_other r.holds x y h held.Lost (λ e. ne (ap variable e))
hold_others r x h (component o c) ne = refl
hold_others r x h (elsewhere d y) ne = refl

pub hold_here : (r : Reliance) (x : ℕ) (h : Hold) → (hold_of (with_hold x h r) (variable x) ≡ h) ⊎ (hold_of (with_hold x h r) (variable x) ≡ held.Lost)
hold_here r x h = read_same r.holds x h held.Lost

some_by : (g h : Hold) → (g ≡ h) ⊎ (g ≡ held.Lost) → h ≢ held.Null → g ≢ held.Null
some_by g h (inl e) ne n = ne (sym e ∙ n)
some_by g h (inr e) ne n = cc (e, n)

pub some_here : (r : Reliance) (x : ℕ) (h : Hold) → h ≢ held.Null → hold_of (with_hold x h r) (variable x) ≢ held.Null
some_here r x h ne = some_by (hold_of (with_hold x h r) (variable x)) h (hold_here r x h) ne

owns_by : (g h : Hold) → (g ≡ h) ⊎ (g ≡ held.Lost) → Owns g → Owns h
owns_by g h (inl e) own = rw e at own
owns_by g h (inr e) own = absurd (lost_owns g e own)

pub owns_here : (r : Reliance) (x : ℕ) (h : Hold) → Owns (hold_of (with_hold x h r) (variable x)) → Owns h
owns_here r x h own = owns_by (hold_of (with_hold x h r) (variable x)) h (hold_here r x h) own

pub lost_here : (r : Reliance) (x : ℕ) → hold_of (with_hold x held.Lost r) (variable x) ≡ held.Lost
lost_here r x = elim (hold_here r x held.Lost) [ inl e ↦ e | inr e ↦ e ]

lose_good : (r : Reliance) (x : ℕ) (p : Place) → (p ≡ variable x) ⊎ (p ≢ variable x) → is_as_good (hold_of r p) (hold_of (with_hold x held.Lost r) p) ≡ true
lose_good r x p (inl e) = rw (e, lost_here r x) (good_lost (hold_of r (variable x)))
lose_good r x p (inr ne) = rw (hold_others r x held.Lost p ne) (good_same (hold_of r p))

-- What owns once a variable is lost owned before.
pub lose_owns : (r : Reliance) (x : ℕ) (p : Place) → Owns (hold_of (with_hold x held.Lost r) p) → Owns (hold_of r p)
lose_owns r x p own = go (same_place p (variable x))
  where
    go : (p ≡ variable x) ⊎ (p ≢ variable x) → Owns (hold_of r p)
    go (inl e) = absurd (lost_owns (hold_of (with_hold x held.Lost r) (variable x)) (lost_here r x) (rw e at own))
    go (inr ne) = rw (hold_others r x held.Lost p ne) at own

pub hand_lose : {objects : List Object} {activations : List (Activation Value)} {kind : Option ℕ} {v : Value} (r : Reliance) (x : ℕ) → IsInHand objects activations (hold_of r) kind v → IsInHand objects activations (hold_of (with_hold x held.Lost r)) kind v
hand_lose r x i = hand_worse (hold_of (with_hold x held.Lost r)) (lose_owns r x) i

module _ {kinds : Kinds} {objects : List Object} {activations : List (Activation Value)} (r : Reliance) (x : ℕ) where
  -- A variable is lost; what it owned is then in hand.
  pub lose_fits : Fits kinds objects activations (hold_of r) → Fits kinds objects activations (hold_of (with_hold x held.Lost r))
  lose_fits f = weaken (hold_of (with_hold x held.Lost r)) (λ p. lose_good r x p (same_place p (variable x))) f

  pub lost_hand : Owns (hold_of r (variable x)) → Fits kinds objects activations (hold_of r) → IsInHand objects activations (hold_of (with_hold x held.Lost r)) (kinds.variables x) (value_at objects activations (variable x))
  lost_hand own f = taken (variable x) (hold_of (with_hold x held.Lost r)) own (λ a. lost_owns (hold_of (with_hold x held.Lost r) (variable x)) (lost_here r x) a) (λ q ne. hold_others r x held.Lost q ne) f

  -- A variable that names nothing is null.
  pub null_fits : ((o : Id) → value_at objects activations (variable x) ≡ Names o → ⊥) → Fits kinds objects activations (hold_of r) → Fits kinds objects activations (hold_of (with_hold x held.Null r))
  null_fits none f = nulls (variable x) (hold_of (with_hold x held.Null r)) (λ q ne. hold_others r x held.Null q ne) none f

  -- X := V, by what V is: in hand; what another place names, that may be relied on; or nothing.
  pub put_owned : {v : Value} (h : Hold) → h ≢ held.Null → IsInHand objects activations (hold_of r) (kinds.variables x) v → Fits kinds objects activations (hold_of r) → Fits kinds objects (put_in x v activations) (hold_of (with_hold x h r))
  put_owned {v} h ne i f = put_hand x v (hold_of (with_hold x h r)) (λ q n. hold_others r x h q n) f (some_here r x h ne) i

  pub put_borrowed : (p : Place) (h : Hold) → h ≢ held.Null → (Owns h → ⊥) → hold_of r p ≢ held.Lost → kinds.variables x ≡ kind_of kinds (access_at objects) p → Fits kinds objects activations (hold_of r) → Fits kinds objects (put_in x (value_at objects activations p) activations) (hold_of (with_hold x h r))
  put_borrowed p h some none ne kind f = put_copy x (value_at objects activations p) (hold_of (with_hold x h r)) (λ q n. hold_others r x h q n) f p refl ne kind (some_here r x h some) (λ own. none (owns_here r x h own))

  pub put_nothing : {v : Value} (h : Hold) → ((o : Id) → v ≡ Names o → ⊥) → Fits kinds objects activations (hold_of r) → Fits kinds objects (put_in x v activations) (hold_of (with_hold x h r))
  put_nothing {v} h none f = put_blank x v (hold_of (with_hold x h r)) (λ q n. hold_others r x h q n) f none

-- X := Y, where Y owns.
pub move_fits : {kinds : Kinds} {objects : List Object} {activations : List (Activation Value)} (r : Reliance) (x y : ℕ) (h : Hold) → h ≢ held.Null → Owns (hold_of r (variable y)) → kinds.variables x ≡ kinds.variables y → Fits kinds objects activations (hold_of r) → Fits kinds objects (put_in x (value_at objects activations (variable y)) activations) (hold_of (with_hold x h (with_hold y held.Lost r)))
move_fits {kinds} r x y h ne own kind f = put_owned (with_hold y held.Lost r) x h ne (rw kind (lost_hand r y own f)) (lose_fits r y f)

-- A component is lent: nothing relies on it, and its value is in hand.
and_both : (a b : Bool) → (a && b) ≡ true → (a ≡ true) × (b ≡ true)
and_both true b e = (refl, e)
and_both false b e = absurd (cc e)

is_component_is : (o k : Id) (c d : ℕ) → is_component k d (component o c) ≡ true → component k d ≡ component o c
is_component_is o k c d e =
    let h = and_both (o.0 == k.0) (c == d) e in
    let i : k ≡ o = ap (λ n. record { 0 = n }) (sym (eqb-true o.0 k.0 h.0)) in
    let j = eqb-true c d h.1 in
    cc (i, j)

is_component_self : (o : Id) (c : ℕ) → is_component o c (component o c) ≡ true
is_component_self o c = rw (eq-eqb o.0 o.0 refl) (eq-eqb c c refl)

pub some_component : (b : Bool) → component_hold b ≢ held.Null
some_component true e = cc e
some_component false e = cc e

pub lent_here : (r : Reliance) (o : Id) (c : ℕ) → hold_of (with_lent o c r) (component o c) ≡ held.Lost
lent_here r o c = rw (is_component_self o c) refl

pub lent_others : (r : Reliance) (o : Id) (c : ℕ) (q : Place) → q ≢ component o c → hold_of (with_lent o c r) q ≡ hold_of r q
lent_others r o c (variable y) ne = refl
lent_others r o c (component k d) ne = go (is_component k d (component o c)) refl
  where
    go : (b : Bool) → is_component k d (component o c) ≡ b → component_hold (is_component k d (component o c) || is_lent r.lent k d) ≡ component_hold (is_lent r.lent k d)
    go true e = absurd (ne (is_component_is o k c d e))
    go false e = rw e refl
lent_others r o c (elsewhere d y) ne = refl

lend_good : (r : Reliance) (o : Id) (c : ℕ) (p : Place) → (p ≡ component o c) ⊎ (p ≢ component o c) → is_as_good (hold_of r p) (hold_of (with_lent o c r) p) ≡ true
lend_good r o c p (inl e) = rw (e, lent_here r o c) (good_lost (hold_of r (component o c)))
lend_good r o c p (inr ne) = rw (lent_others r o c p ne) (good_same (hold_of r p))

pub lend_owns : (r : Reliance) (o : Id) (c : ℕ) (p : Place) → Owns (hold_of (with_lent o c r) p) → Owns (hold_of r p)
lend_owns r o c p own = go (same_place p (component o c))
  where
    go : (p ≡ component o c) ⊎ (p ≢ component o c) → Owns (hold_of r p)
    go (inl e) = absurd (lost_owns (hold_of (with_lent o c r) (component o c)) (lent_here r o c) (rw e at own))
    go (inr ne) = rw (lent_others r o c p ne) at own

pub hand_lend : {objects : List Object} {activations : List (Activation Value)} {kind : Option ℕ} {v : Value} (r : Reliance) (o : Id) (c : ℕ) → IsInHand objects activations (hold_of r) kind v → IsInHand objects activations (hold_of (with_lent o c r)) kind v
hand_lend r o c i = hand_worse (hold_of (with_lent o c r)) (lend_owns r o c) i

module _ {kinds : Kinds} {objects : List Object} {activations : List (Activation Value)} (r : Reliance) (o : Id) (c : ℕ) where
  pub lend_fits : Fits kinds objects activations (hold_of r) → Fits kinds objects activations (hold_of (with_lent o c r))
  lend_fits f = weaken (hold_of (with_lent o c r)) (λ p. lend_good r o c p (same_place p (component o c))) f

  pub lent_hand : is_lent r.lent o c ≡ false → Fits kinds objects activations (hold_of r) → IsInHand objects activations (hold_of (with_lent o c r)) (component_kind kinds (access_at objects o) c) (value_at objects activations (component o c))
  lent_hand owned f = taken (component o c) (hold_of (with_lent o c r)) (rw owned tt) (λ a. lost_owns (hold_of (with_lent o c r) (component o c)) (lent_here r o c) a) (λ q ne. lent_others r o c q ne) f

  -- The loan ends where the component's value is in hand again.
  pub repaid_fits : IsInHand objects activations (hold_of (with_lent o c r)) (component_kind kinds (access_at objects o) c) (value_at objects activations (component o c)) → Fits kinds objects activations (hold_of (with_lent o c r)) → Fits kinds objects activations (hold_of r)
  repaid_fits i f = held_anew (component o c) (hold_of r) (λ q ne. sym (lent_others r o c q ne)) (λ k e. says_right (access_at objects) (hold_of r (component o c)) (component_kind kinds (access_at objects o) c) k (some_component (is_lent r.lent o c)) (i.hand.right k e)) (λ k own e q a b. absurd (i.hand.free k e q a b)) f

  -- It ends where the component gets another value that is in hand, or none.
  pub store_repaid : (x : Object) {v : Value} → object_at objects o ≡ Some x → IsInHand objects activations (hold_of (with_lent o c r)) (component_kind kinds (access_at objects o) c) v → Fits kinds objects activations (hold_of (with_lent o c r)) → Fits kinds (store objects (Names o) c v) activations (hold_of r)
  store_repaid x {v} found i f = store_hand objects o x found c v (hold_of r) (λ q ne. sym (lent_others r o c q ne)) f (some_component (is_lent r.lent o c)) i

  -- O.C := V, where V is in hand.
  pub store_owned : (x : Object) {v : Value} → object_at objects o ≡ Some x → IsInHand objects activations (hold_of r) (component_kind kinds (access_at objects o) c) v → Fits kinds objects activations (hold_of r) → Fits kinds (store objects (Names o) c v) activations (hold_of r)
  store_owned x {v} found i f = store_hand objects o x found c v (hold_of r) (λ q ne. refl) f (some_component (is_lent r.lent o c)) i

-- The aliases of an access type are forgotten.
forget_one_good : (b : Bool) (h : Hold) → is_as_good h (without_alias b h) ≡ true
forget_one_good false h = good_same h
forget_one_good true held.Null = refl
forget_one_good true (held.Kept Whole) = refl
forget_one_good true (held.Own Whole) = refl
forget_one_good true (held.Alias Whole) = refl
forget_one_good true held.Lost = refl

forget_one_borrows : (b : Bool) (h : Hold) → Borrows (without_alias b h) → b ≡ false
forget_one_borrows false h a = refl
forget_one_borrows true held.Null a = absurd a
forget_one_borrows true (held.Kept r) a = absurd a
forget_one_borrows true (held.Own r) a = absurd a
forget_one_borrows true (held.Alias r) a = absurd a
forget_one_borrows true held.Lost a = absurd a

forget_one_owns : (b : Bool) (h : Hold) → Owns (without_alias b h) → Owns h
forget_one_owns false h a = a
forget_one_owns true held.Null a = a
forget_one_owns true (held.Kept r) a = a
forget_one_owns true (held.Own r) a = a
forget_one_owns true (held.Alias r) a = a
forget_one_owns true held.Lost a = a

pub forget_good : (vs : List VariableForm) (t : ℕ) (holds : Holds) (x : ℕ) → is_as_good (hold_at holds x) (hold_at (without_aliases vs t holds) x) ≡ true
forget_good [] t holds x = good_lost (hold_at holds x)
forget_good (v ∷ vs) t [] x = refl
forget_good (v ∷ vs) t (h ∷ hs) zero = forget_one_good (is_this t (access_of (Some v.kind))) h
forget_good (v ∷ vs) t (h ∷ hs) (suc x) = forget_good vs t hs x

is_this_type : (t : ℕ) (access : Option ℕ) → access ≡ Some t → is_this t access ≡ true
is_this_type t access e = rw e (eq-eqb t t refl)

pub forget_borrows : (vs : List VariableForm) (t : ℕ) (holds : Holds) (x : ℕ) → Borrows (hold_at (without_aliases vs t holds) x) → variable_access vs x ≢ Some t
forget_borrows [] t holds x a e = absurd a
forget_borrows (v ∷ vs) t [] x a e = absurd a
forget_borrows (v ∷ vs) t (h ∷ hs) zero a e = let b = forget_one_borrows (is_this t (access_of (Some v.kind))) h a in let i = is_this_type t (access_of (Some v.kind)) e in cc (b, i)
forget_borrows (v ∷ vs) t (h ∷ hs) (suc x) a e = forget_borrows vs t hs x a e

pub forget_owner : (vs : List VariableForm) (t : ℕ) (holds : Holds) (x : ℕ) → Owns (hold_at (without_aliases vs t holds) x) → Owns (hold_at holds x)
forget_owner [] t holds x a = absurd a
forget_owner (v ∷ vs) t [] x a = absurd a
forget_owner (v ∷ vs) t (h ∷ hs) zero a = forget_one_owns (is_this t (access_of (Some v.kind))) h a
forget_owner (v ∷ vs) t (h ∷ hs) (suc x) a = forget_owner vs t hs x a

-- The holds of the running activation's variables become worse, and all else stays.
pub worse_holds : (r : Reliance) (holds : Holds) → ((x : ℕ) → is_as_good (hold_at r.holds x) (hold_at holds x) ≡ true) → (p : Place) → is_as_good (hold_of r p) (hold_of (record r { holds = holds }) p) ≡ true
worse_holds r holds worse (variable x) = worse x
worse_holds r holds worse (component o c) = good_same (hold_of r (component o c))
worse_holds r holds worse (elsewhere d x) = good_same (hold_of r (elsewhere d x))

module _ {kinds : Kinds} {objects : List Object} {activations : List (Activation Value)} (r : Reliance) (vs : List VariableForm) where
  pub holds_fits : (holds : Holds) → ((x : ℕ) → is_as_good (hold_at r.holds x) (hold_at holds x) ≡ true) → Fits kinds objects activations (hold_of r) → Fits kinds objects activations (hold_of (record r { holds = holds }))
  holds_fits holds worse f = weaken (hold_of (record r { holds = holds })) (worse_holds r holds worse) f

  pub forget_fits : (t : ℕ) → Fits kinds objects activations (hold_of r) → Fits kinds objects activations (hold_of (record r { holds = without_aliases vs t r.holds }))
  forget_fits t f = holds_fits (without_aliases vs t r.holds) (forget_good vs t r.holds) f

forget_owns : (r : Reliance) (vs : List VariableForm) (t : ℕ) (p : Place) → Owns (hold_of (record r { holds = without_aliases vs t r.holds }) p) → Owns (hold_of r p)
forget_owns r vs t (variable x) a = forget_owner vs t r.holds x a
forget_owns r vs t (component o c) a = a
forget_owns r vs t (elsewhere d x) a = a

pub hand_forget : {objects : List Object} {activations : List (Activation Value)} {kind : Option ℕ} {v : Value} (r : Reliance) (vs : List VariableForm) (t : ℕ) → IsInHand objects activations (hold_of r) kind v → IsInHand objects activations (hold_of (record r { holds = without_aliases vs t r.holds })) kind v
hand_forget r vs t i = hand_worse (hold_of (record r { holds = without_aliases vs t r.holds })) (forget_owns r vs t) i

component_borrows : (b : Bool) → Borrows (component_hold b) → ⊥
component_borrows true a = a
component_borrows false a = a

-- Then no place of that type borrows, if none does in a suspended activation.
pub none_borrows : (kinds : Kinds) (access : Id → Option ℕ) (r : Reliance) (vs : List VariableForm) (t : ℕ) → ((x : ℕ) → kinds.variables x ≡ variable_access vs x) → ((d x : ℕ) → Borrows (hold_at (r.outer d) x) → kinds.outer d x ≢ Some t) → (q : Place) → Borrows (hold_of (record r { holds = without_aliases vs t r.holds }) q) → kind_of kinds access q ≢ Some t
none_borrows kinds access r vs t same outer (variable x) a e = forget_borrows vs t r.holds x a (sym (same x) ∙ e)
none_borrows kinds access r vs t same outer (component o c) a e = component_borrows (is_lent r.lent o c) a
none_borrows kinds access r vs t same outer (elsewhere d x) a e = outer d x a e

-- Behind a block the variables of its access types are lost, and its own.
pub if_own_good : (b : Bool) (h : Hold) → is_as_good h (if_own b h) ≡ true
if_own_good true h = good_same h
if_own_good false h = good_lost h

types_good : (vs : List VariableForm) (types : List ℕ) (holds : Holds) (x : ℕ) → is_as_good (hold_at holds x) (hold_at (without_types vs types holds) x) ≡ true
types_good [] types holds x = good_lost (hold_at holds x)
types_good (v ∷ vs) types [] x = refl
types_good (v ∷ vs) types (h ∷ hs) zero = if_own_good (not (is_among types (access_of (Some v.kind)))) h
types_good (v ∷ vs) types (h ∷ hs) (suc x) = types_good vs types hs x

if_own_lost : (b : Bool) (h : Hold) → if_own (not b) h ≢ held.Lost → b ≡ false
if_own_lost true h ne = absurd (ne refl)
if_own_lost false h ne = refl

types_relied : (vs : List VariableForm) (types : List ℕ) (holds : Holds) (x : ℕ) → hold_at (without_types vs types holds) x ≢ held.Lost → is_among types (variable_access vs x) ≡ false
types_relied [] types holds x ne = absurd (ne refl)
types_relied (v ∷ vs) types [] x ne = absurd (ne refl)
types_relied (v ∷ vs) types (h ∷ hs) zero ne = if_own_lost (is_among types (access_of (Some v.kind))) h ne
types_relied (v ∷ vs) types (h ∷ hs) (suc x) ne = types_relied vs types hs x ne

-- So are the block's variables: each other one holds what it did.
abbrev StaysOrLost : (before after : Hold) → Type 0
StaysOrLost before after = (after ≡ before) ⊎ (after ≡ held.Lost)

one_lost : (holds : Holds) (y x : ℕ) → StaysOrLost (hold_at holds x) (hold_at (slice_set holds y held.Lost) x)
one_lost holds y x = go (same_or_not x y)
  where
    go : (x ≡ y) ⊎ (x ≢ y) → StaysOrLost (hold_at holds x) (hold_at (slice_set holds y held.Lost) x)
    go (inl e) = rw e (inr (elim (read_same holds y held.Lost held.Lost) [ inl is ↦ is | inr is ↦ is ]))
    go (inr ne) = inl (read_other holds y x held.Lost held.Lost ne)

then_lost : (a b c : Hold) → StaysOrLost a b → StaysOrLost b c → StaysOrLost a c
then_lost a b c first (inr e) = inr e
then_lost a b c (inl d) (inl e) = inl (e ∙ d)
then_lost a b c (inr d) (inl e) = inr (e ∙ d)

variables_lost : (xs : List ℕ) (holds : Holds) (x : ℕ) → StaysOrLost (hold_at holds x) (hold_at (without_variables xs holds) x)
variables_lost [] holds x = inl refl
variables_lost (y ∷ ys) holds x =
    let after = slice_set holds y held.Lost in
    then_lost (hold_at holds x) (hold_at after x) (hold_at (without_variables ys after) x) (one_lost holds y x) (variables_lost ys after x)

good_stays : (a b c : Hold) → is_as_good a b ≡ true → StaysOrLost b c → is_as_good a c ≡ true
good_stays a b c e (inl is) = rw is e
good_stays a b c e (inr is) = rw is (good_lost a)

pub left_good : (vs : List VariableForm) (gone : Gone) (holds : Holds) (x : ℕ) → is_as_good (hold_at holds x) (hold_at (left vs gone holds) x) ≡ true
left_good vs gone holds x =
    let inner = without_types vs gone.types holds in
    good_stays (hold_at holds x) (hold_at inner x) (hold_at (left vs gone holds) x) (types_good vs gone.types holds x) (variables_lost gone.variables inner x)

relied_stays : (before after : Hold) → StaysOrLost before after → after ≢ held.Lost → before ≢ held.Lost
relied_stays before after (inl is) ne lost = ne (is ∙ lost)
relied_stays before after (inr is) ne lost = ne is

pub left_relied : (vs : List VariableForm) (gone : Gone) (holds : Holds) (x : ℕ) → hold_at (left vs gone holds) x ≢ held.Lost → is_among gone.types (variable_access vs x) ≡ false
left_relied vs gone holds x ne =
    let inner = without_types vs gone.types holds in
    types_relied vs gone.types holds x (relied_stays (hold_at inner x) (hold_at (left vs gone holds) x) (variables_lost gone.variables inner x) ne)

pub left_fits : {kinds : Kinds} {objects : List Object} {activations : List (Activation Value)} (r : Reliance) (vs : List VariableForm) (gone : Gone) → Fits kinds objects activations (hold_of r) → Fits kinds objects activations (hold_of (record r { holds = left vs gone r.holds }))
left_fits r vs gone f = holds_fits r vs (left vs gone r.holds) (left_good vs gone r.holds) f

-- The holds of suspended activations become worse, and all else stays.
worse_outer : (r : Reliance) (outer : ℕ → Holds) → ((d x : ℕ) → is_as_good (hold_at (r.outer d) x) (hold_at (outer d) x) ≡ true) → (p : Place) → is_as_good (hold_of r p) (hold_of (record r { outer = outer }) p) ≡ true
worse_outer r outer worse (variable x) = good_same (hold_at r.holds x)
worse_outer r outer worse (component o c) = good_same (hold_of r (component o c))
worse_outer r outer worse (elsewhere d x) = worse d x

pub outer_fits : {kinds : Kinds} {objects : List Object} {activations : List (Activation Value)} (r : Reliance) (outer : ℕ → Holds) → ((d x : ℕ) → is_as_good (hold_at (r.outer d) x) (hold_at (outer d) x) ≡ true) → Fits kinds objects activations (hold_of r) → Fits kinds objects activations (hold_of (record r { outer = outer }))
outer_fits r outer worse f = weaken (hold_of (record r { outer = outer })) (worse_outer r outer worse) f
