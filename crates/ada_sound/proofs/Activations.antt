-- What a call and its return do to what is relied on: the caller's variables are those of a suspended activation meanwhile.

use Rattle.std.proofs.Common.{◌≡◌, ◌≢◌, ℕ, zero, suc, Bool, true, List, ◌∷◌, ◌++◌, refl, sym, ap, ◌∙◌, ◌⊎◌, inl, inr, subst}
use Rattle.std.specs.Prelude.{Option, Some, None}
use Rattle.ada_program.specs.ProgramForm.{TypeForm, VariableForm}
use Rattle.ada_flow.specs.declared.rule.Hold.TheVariants as hold
use Rattle.ada_flow.specs.declared.rule.Hold.{Hold}
use Rattle.ada_flow.specs.Flow.{Holds, hold_at, variable_access, gives_back}
use Rattle.ada_meaning.specs.declared.state.Id.{Id}
use Rattle.ada_meaning.specs.declared.state.Value.{Value}
use Rattle.ada_meaning.specs.declared.state.Value.TheVariants.{Names}
use Rattle.ada_meaning.specs.Named.{Object}
use Rattle.ada_owners.specs.Places.{Place, variable, component, elsewhere, value_at, access_at}
use Rattle.ada_owners.specs.Reliance.{Says, Owns, kind_of}
use Rattle.ada_owners.proofs.Calls.{as_callee, as_caller}
use Rattle.ada_owners.proofs.Kernel.{says_right}
use Rattle.ada_owners.proofs.Kernel as kernel
use Rattle.ada_program.specs.WellFormed.{variable_kind}
use Rattle.ada_sound.proofs.Fits.{Outer, Reference, IsReferred, IsPlace, referred_behind, referred_either, Outsiders, kinds_of, stacked, hold_in, IsSaid, place_at, Fit, weaker_fit}
use Rattle.ada_sound.proofs.Orderings.{AsGood}

-- What is outside of a body that a call has begun: what it gave the formal parameters, and its caller, which is the nearest suspended activation; and the
-- objects that the call refers to.
abbrev pub pushed_by : List Value → Outer → List Reference → List Id → Outsiders → Outsiders
pushed_by given w refers under outer = record { given = given; suspended = w ∷ outer.suspended; referenced = refers ++ outer.referenced; under = under ++ outer.under }

-- What gives something back, and names an object, owns it.
gives_owner : (given : Value) (h : Hold) (v : Value) (o : Id) → gives_back h ≡ true → IsSaid given h v → v ≡ Names o → Owns h
gives_owner given hold.Null v o gives is names = absurd (cc (is, names))
gives_owner given (hold.Kept r) v o gives is names = tt
gives_owner given (hold.Own r) v o gives is names = tt
gives_owner given (hold.Alias r) v o gives is names = absurd (cc gives)
gives_owner given hold.Lost v o gives is names = absurd (cc gives)

-- A return: what a variable of the caller holds then, a formal parameter gives it, or it was relied on for that during the call.
module _ (w : Outer) (variables : List VariableForm) (places : List Value) (holds : Holds) (to : (formal : ℕ) → Option ℕ) (later : List Value) (after : Holds) where
  -- A formal parameter is of the variable's access type, gives something back, and holds what the variable holds then, if that names an object.
  abbrev pub GivesIt : (x formal : ℕ) → Type 0
  GivesIt x i =
      (to i ≡ Some x) × (variable_access variables i ≡ variable_access w.variables x) × (gives_back (hold_at holds i) ≡ true) × (hold_at after x ≢ hold.Null)
      × ((o : Id) → place_at later x ≡ Names o → place_at places i ≡ Names o)

  abbrev pub Stays : (x : ℕ) → Type 0
  Stays x = (hold_at after x ≡ hold_at w.holds x) × (place_at later x ≡ place_at w.places x)

  abbrev pub Since : (x : ℕ) → Type 0
  Since x = (hold_at after x ≡ hold.Lost) ⊎ (Stays x ⊎ ((i : ℕ) × GivesIt x i))

  -- Where a variable of the caller is found during the call, and where each place is.
  abbrev seen_by : (x : ℕ) → Since x → Place
  seen_by x (inl lost) = elsewhere 0 x
  seen_by x (inr (inl stays)) = elsewhere 0 x
  seen_by x (inr (inr (i, gives))) = variable i

  -- There and back again.
  abbrev home_by : Option ℕ → (formal : ℕ) → Place
  home_by None i = variable i
  home_by (Some x) i = variable x

  abbrev home : Place → Place
  home (variable i) = home_by (to i) i
  home (component o c) = component o c
  home (elsewhere zero x) = variable x
  home (elsewhere (suc d) x) = elsewhere d x

  home_is : (x : ℕ) (s : Since x) → home (seen_by x s) ≡ variable x
  home_is x (inl lost) = refl
  home_is x (inr (inl stays)) = refl
  home_is x (inr (inr (i, gives))) = rw gives.0 refl

  module _ (types : List TypeForm) (outer : Outsiders) (given : List Value) (refers : List Reference) (under : List Id) (spared : Id → Bool) (heap : List Object) (since : (x : ℕ) → Since x) (f : Fit types variables (pushed_by given w refers under outer) spared heap places holds) where
    abbrev During : Place → (o : Id) → Type 0
    During p o = Owns (hold_in (pushed_by given w refers under outer) spared holds p) × (value_at heap (stacked places (pushed_by given w refers under outer)) p ≡ Names o)

    abbrev seen : Place → Place
    seen (variable x) = seen_by x (since x)
    seen (component o c) = component o c
    seen (elsewhere d x) = elsewhere (suc d) x

    home_again : (p : Place) → home (seen p) ≡ p
    home_again (variable x) = home_is x (since x)
    home_again (component o c) = refl
    home_again (elsewhere d x) = refl

    -- What owns then owned during the call.
    gave : (i : ℕ) (o : Id) → gives_back (hold_at holds i) ≡ true → place_at places i ≡ Names o → During (variable i) o
    gave i o gives names = (gives_owner (place_at given i) (hold_at holds i) (place_at places i) o gives (f.said i) names, names)

    owned_by : (x : ℕ) (s : Since x) (o : Id) → Owns (hold_at after x) → place_at later x ≡ Names o → During (seen_by x s) o
    owned_by x (inl lost) o own names = absurd (rw lost at own)
    owned_by x (inr (inl stays)) o own names = (rw stays.0 at own, sym stays.1 ∙ names)
    owned_by x (inr (inr (i, gives))) o own names = gave i o gives.2 (gives.4 o names)

    owned : (p : Place) (o : Id) → Owns (hold_in outer spared after p) → value_at heap (stacked later outer) p ≡ Names o → During (seen p) o
    owned (variable x) o own names = owned_by x (since x) o own names
    owned (component k c) o own names = (own, names)
    owned (elsewhere zero x) o own names = (own, names)
    owned (elsewhere (suc d) x) o own names = (own, names)

    -- What is relied on then was relied on during the call.
    said_by : (x : ℕ) → Since x → (o : Id) → place_at later x ≡ Names o → Says (access_at heap) (hold_at after x) (variable_access w.variables x) o
    said_by x (inl lost) o names = rw lost tt
    said_by x (inr (inl stays)) o names = rw stays.0 (f.owners.fit.relied (elsewhere 0 x) o (sym stays.1 ∙ names))
    said_by x (inr (inr (i, gives))) o names =
        let own = gave i o gives.2 (gives.4 o names) in
        says_right (access_at heap) (hold_at after x) (variable_access w.variables x) o gives.3 (rw gives.1 at (kernel.owned_at f.owners.fit (variable i) own.0 o own.1))

    relied : (p : Place) (o : Id) → value_at heap (stacked later outer) p ≡ Names o → Says (access_at heap) (hold_in outer spared after p) (kind_of (kinds_of types w.variables outer) (access_at heap) p) o
    relied (variable x) o names = said_by x (since x) o names
    relied (component k c) o names = f.owners.fit.relied (component k c) o names
    relied (elsewhere zero x) o names = f.owners.fit.relied (elsewhere 1 x) o names
    relied (elsewhere (suc d) x) o names = f.owners.fit.relied (elsewhere (suc (suc d)) x) o names

    apart : (p q : Place) (o : Id) → Owns (hold_in outer spared after p) → Owns (hold_in outer spared after q) → value_at heap (stacked later outer) p ≡ Names o → value_at heap (stacked later outer) q ≡ Names o → p ≡ q
    apart p q o a b c d =
        let here = owned p o a c in
        let there = owned q o b d in
        let same = ap home (f.owners.fit.apart (seen p) (seen q) o here.0 there.0 here.1 there.1) in
        rw (home_again p, home_again q) at same

    -- So the caller's variables are relied on when its call has come to its end.
    pub returned_fit : ((x : ℕ) → IsSaid (place_at outer.given x) (hold_at after x) (place_at later x)) → ((x : ℕ) → hold_at after x ≢ hold.Lost → IsPlace types outer.referenced (variable_kind w.variables x) (place_at later x)) → Fit types w.variables outer spared heap later after
    returned_fit said objects = record {
      owners = record { fit = record { relied = relied; apart = apart } };
      said = said;
      objects = objects;
      referred = λ o t is. f.referred o t (referred_behind refers outer.referenced o t is);
    }

-- A variable of the running activation is not elsewhere.
abbrev IsOutside : Place → Type 0
IsOutside (variable x) = ⊥
IsOutside (component o c) = Unit {0}
IsOutside (elsewhere d x) = Unit {0}

again : (p : Place) → IsOutside p → as_callee (as_caller p) ≡ p
again (variable x) out = absurd out
again (component o c) out = refl
again (elsewhere zero x) out = refl
again (elsewhere (suc d) x) out = refl

-- A call: each formal parameter is as it is relied on to be; one that owns has what a variable of the caller owned, which is relied on no more. Each other
-- place is as it was in the caller's view, or less is relied on.
module _ (types : List TypeForm) (outer : Outsiders) (w : Outer) (given : List Value) (refers : List Reference) (under : List Id) (spared : Id → Bool) (heap : List Object) (variables : List VariableForm) (places : List Value) (holds before : Holds) where
  pub record HandedOver (i : ℕ) : Type 0 where
    pub x : ℕ
    pub value : place_at places i ≡ place_at w.places x
    pub owner : (o : Id) → place_at w.places x ≡ Names o → Owns (hold_at before x)
    pub lost : Owns (hold_at w.holds x) → ⊥

  call_reads : (p : Place) (o : Id) → IsOutside p → value_at heap (stacked places (pushed_by given w refers under outer)) p ≡ Names o → value_at heap (stacked w.places outer) (as_caller p) ≡ Names o
  call_reads (variable x) o out e = absurd out
  call_reads (component k c) o out e = e
  call_reads (elsewhere zero x) o out e = e
  call_reads (elsewhere (suc d) x) o out e = e

  module _ (f : Fit types w.variables outer spared heap w.places before) (less : AsGood before w.holds) (owned : (x : ℕ) → Owns (hold_at w.holds x) → Owns (hold_at before x)) (over : (i : ℕ) → Owns (hold_at holds i) → HandedOver i) (once : (i j : ℕ) (a : Owns (hold_at holds i)) (b : Owns (hold_at holds j)) → (over i a).x ≡ (over j b).x → i ≡ j) where
    call_owns : (p : Place) → IsOutside p → Owns (hold_in (pushed_by given w refers under outer) spared holds p) → Owns (hold_in outer spared before (as_caller p))
    call_owns (variable x) out own = absurd out
    call_owns (component k c) out own = own
    call_owns (elsewhere zero x) out own = owned x own
    call_owns (elsewhere (suc d) x) out own = own

    outside_apart : (p q : Place) (o : Id) → IsOutside p → IsOutside q → Owns (hold_in (pushed_by given w refers under outer) spared holds p) → Owns (hold_in (pushed_by given w refers under outer) spared holds q) → value_at heap (stacked places (pushed_by given w refers under outer)) p ≡ Names o → value_at heap (stacked places (pushed_by given w refers under outer)) q ≡ Names o → p ≡ q
    outside_apart p q o out away a b c d =
        let same = f.owners.fit.apart (as_caller p) (as_caller q) o (call_owns p out a) (call_owns q away b) (call_reads p o out c) (call_reads q o away d) in
        let h = ap as_callee same in
        rw (again p out, again q away) at h

    formal_apart : (i : ℕ) (q : Place) (o : Id) → IsOutside q → Owns (hold_at holds i) → Owns (hold_in (pushed_by given w refers under outer) spared holds q) → place_at places i ≡ Names o → value_at heap (stacked places (pushed_by given w refers under outer)) q ≡ Names o → ⊥
    formal_apart i q o away a b c d = go q away b (f.owners.fit.apart (variable h.x) (as_caller q) o (h.owner o (sym h.value ∙ c)) (call_owns q away b) (sym h.value ∙ c) (call_reads q o away d))
      where
        h : HandedOver i
        h = over i a

        go : (q : Place) → IsOutside q → Owns (hold_in (pushed_by given w refers under outer) spared holds q) → variable h.x ≡ as_caller q → ⊥
        go (variable x) out own e = out
        go (component k c) out own e = cc e
        go (elsewhere zero x) out own e = let same : h.x ≡ x = cc e in h.lost (subst (λ (y : ℕ). Owns (hold_at w.holds y)) (sym same) own)
        go (elsewhere (suc d) x) out own e = cc e

    formals_apart : (i j : ℕ) (o : Id) → Owns (hold_at holds i) → Owns (hold_at holds j) → place_at places i ≡ Names o → place_at places j ≡ Names o → i ≡ j
    formals_apart i j o a b c d =
        let h = over i a in
        let g = over j b in
        let same : variable h.x ≡ variable g.x = f.owners.fit.apart (variable h.x) (variable g.x) o (h.owner o (sym h.value ∙ c)) (g.owner o (sym g.value ∙ d)) (sym h.value ∙ c) (sym g.value ∙ d) in
        once i j a b (cc same)

    call_apart : (p q : Place) (o : Id) → Owns (hold_in (pushed_by given w refers under outer) spared holds p) → Owns (hold_in (pushed_by given w refers under outer) spared holds q) → value_at heap (stacked places (pushed_by given w refers under outer)) p ≡ Names o → value_at heap (stacked places (pushed_by given w refers under outer)) q ≡ Names o → p ≡ q
    call_apart (variable i) (variable j) o a b c d = ap variable (formals_apart i j o a b c d)
    call_apart (variable i) (component k e) o a b c d = absurd (formal_apart i (component k e) o tt a b c d)
    call_apart (variable i) (elsewhere e x) o a b c d = absurd (formal_apart i (elsewhere e x) o tt a b c d)
    call_apart (component k e) (variable j) o a b c d = absurd (formal_apart j (component k e) o tt b a d c)
    call_apart (elsewhere e x) (variable j) o a b c d = absurd (formal_apart j (elsewhere e x) o tt b a d c)
    call_apart (component k e) (component l g) o a b c d = outside_apart (component k e) (component l g) o tt tt a b c d
    call_apart (component k e) (elsewhere g x) o a b c d = outside_apart (component k e) (elsewhere g x) o tt tt a b c d
    call_apart (elsewhere e x) (component l g) o a b c d = outside_apart (elsewhere e x) (component l g) o tt tt a b c d
    call_apart (elsewhere e x) (elsewhere g y) o a b c d = outside_apart (elsewhere e x) (elsewhere g y) o tt tt a b c d

    module _ (right : (i : ℕ) (o : Id) → place_at places i ≡ Names o → Says (access_at heap) (hold_at holds i) (variable_access variables i) o) where
      waits : Fit types w.variables outer spared heap w.places w.holds
      waits = weaker_fit w.holds less f

      call_relied : (p : Place) (o : Id) → value_at heap (stacked places (pushed_by given w refers under outer)) p ≡ Names o → Says (access_at heap) (hold_in (pushed_by given w refers under outer) spared holds p) (kind_of (kinds_of types variables (pushed_by given w refers under outer)) (access_at heap) p) o
      call_relied (variable x) o e = right x o e
      call_relied (component k c) o e = f.owners.fit.relied (component k c) o e
      call_relied (elsewhere zero x) o e = waits.owners.fit.relied (variable x) o e
      call_relied (elsewhere (suc d) x) o e = f.owners.fit.relied (elsewhere d x) o e

      -- What the caller relies on stays so while its call runs, and the body relies on what it was given.
      pub called_fit : ((x : ℕ) → IsSaid (place_at given x) (hold_at holds x) (place_at places x)) → ((x : ℕ) → hold_at holds x ≢ hold.Lost → IsPlace types (refers ++ outer.referenced) (variable_kind variables x) (place_at places x)) → ((o : Id) (t : ℕ) → IsReferred refers o t → access_at heap o ≡ Some t) → Fit types variables (pushed_by given w refers under outer) spared heap places holds
      called_fit said objects there = record {
        owners = record { fit = record { relied = call_relied; apart = call_apart } };
        said = said;
        objects = objects;
        referred = λ o t is. elim (referred_either refers outer.referenced o t is) [ inl here ↦ there o t here | inr before ↦ f.referred o t before ];
      }
