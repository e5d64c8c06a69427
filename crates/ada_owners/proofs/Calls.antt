-- Activations: a call suspends the running one, and a return goes on with it.

use Rattle.std.proofs.Common.{◌≡◌, ℕ, zero, suc, List, ◌∷◌, refl, ap}
use Rattle.std.specs.Prelude.{Option}
use Rattle.ada_flow.specs.Flow.{Holds}
use Rattle.ada_meaning.specs.declared.state.Id.{Id}
use Rattle.ada_meaning.specs.declared.state.Value.{Value}
use Rattle.ada_meaning.specs.declared.state.Value.TheVariants.{Names}
use Rattle.ada_meaning.specs.State.{Activation}
use Rattle.ada_meaning.specs.Named.{Object}
use Rattle.ada_owners.specs.Places.{Place, variable, component, elsewhere, value_at, access_at}
use Rattle.ada_owners.specs.Reliance.{Says, Owns, Kinds, kind_of, Reliance, hold_of, callee_kinds, callee_reliance, caller_kinds, caller_reliance, Fits, IsInHand, NameNothing}
use Rattle.ada_owners.proofs.Kernel as kernel

-- Where a place of the caller is found during the call, and where one of the callee's view was before it.
abbrev pub as_callee : Place → Place
as_callee (variable x) = elsewhere 0 x
as_callee (component o c) = component o c
as_callee (elsewhere d x) = elsewhere (suc d) x

abbrev pub as_caller : Place → Place
as_caller (variable x) = variable x
as_caller (component o c) = component o c
as_caller (elsewhere zero x) = variable x
as_caller (elsewhere (suc d) x) = elsewhere d x

-- There and back again.
back_again : (p : Place) → as_caller (as_callee p) ≡ p
back_again (variable x) = refl
back_again (component o c) = refl
back_again (elsewhere d x) = refl

module _ (objects : List Object) (a : Activation Value) (activations : List (Activation Value)) where
  -- A return: each place of the caller is as it was in the callee's view.
  return_reads : (p : Place) (o : Id) → value_at objects activations p ≡ Names o → value_at objects (a ∷ activations) (as_callee p) ≡ Names o
  return_reads (variable x) o e = e
  return_reads (component k c) o e = e
  return_reads (elsewhere d x) o e = e

  return_owns : (r : Reliance) (p : Place) → Owns (hold_of (caller_reliance r) p) → Owns (hold_of r (as_callee p))
  return_owns r (variable x) own = own
  return_owns r (component k c) own = own
  return_owns r (elsewhere d x) own = own

  return_says : (kinds : Kinds) (r : Reliance) (p : Place) (o : Id) → Says (access_at objects) (hold_of r (as_callee p)) (kind_of kinds (access_at objects) (as_callee p)) o → Says (access_at objects) (hold_of (caller_reliance r) p) (kind_of (caller_kinds kinds) (access_at objects) p) o
  return_says kinds r (variable x) o s = s
  return_says kinds r (component k c) o s = s
  return_says kinds r (elsewhere d x) o s = s

  pub return_fits : {kinds : Kinds} (r : Reliance) → Fits kinds objects (a ∷ activations) (hold_of r) → Fits (caller_kinds kinds) objects activations (hold_of (caller_reliance r))
  return_fits {kinds} r f = record {
    fit = kernel.seen_from f.fit (access_at objects) (value_at objects activations) (hold_of (caller_reliance r)) (kind_of (caller_kinds kinds) (access_at objects)) as_callee return_reads (λ p o e s. return_says kinds r p o s) (λ p o e own. return_owns r p own)
        (λ p q o x y u v e. let h = ap as_caller e in rw (back_again p, back_again q) at h);
  }

  pub hand_return : {kind : Option ℕ} {v : Value} (r : Reliance) → IsInHand objects (a ∷ activations) (hold_of r) kind v → IsInHand objects activations (hold_of (caller_reliance r)) kind v
  hand_return r i = record { hand = kernel.hand_seen (value_at objects activations) (hold_of (caller_reliance r)) as_callee (λ o e q x y. (return_owns r q x, return_reads q o y)) i.hand }

  module _ (nothing : NameNothing a.places) where
    -- A call: the callee's variables name nothing, and each other place is as it was in the caller's view.
    call_reads : (p : Place) (o : Id) → value_at objects (a ∷ activations) p ≡ Names o → value_at objects activations (as_caller p) ≡ Names o
    call_reads (variable x) o e = absurd (nothing x o e)
    call_reads (component k c) o e = e
    call_reads (elsewhere zero x) o e = e
    call_reads (elsewhere (suc d) x) o e = e

    call_owns : (holds : Holds) (r : Reliance) (p : Place) (o : Id) → value_at objects (a ∷ activations) p ≡ Names o → Owns (hold_of (callee_reliance holds r) p) → Owns (hold_of r (as_caller p))
    call_owns holds r (variable x) o e own = absurd (nothing x o e)
    call_owns holds r (component k c) o e own = own
    call_owns holds r (elsewhere zero x) o e own = own
    call_owns holds r (elsewhere (suc d) x) o e own = own

    call_says : (kinds : Kinds) (variables : ℕ → Option ℕ) (holds : Holds) (r : Reliance) (p : Place) (o : Id) → value_at objects (a ∷ activations) p ≡ Names o → Says (access_at objects) (hold_of r (as_caller p)) (kind_of kinds (access_at objects) (as_caller p)) o → Says (access_at objects) (hold_of (callee_reliance holds r) p) (kind_of (callee_kinds variables kinds) (access_at objects) p) o
    call_says kinds variables holds r (variable x) o e s = absurd (nothing x o e)
    call_says kinds variables holds r (component k c) o e s = s
    call_says kinds variables holds r (elsewhere zero x) o e s = s
    call_says kinds variables holds r (elsewhere (suc d) x) o e s = s

    again : (p : Place) (o : Id) → value_at objects (a ∷ activations) p ≡ Names o → as_callee (as_caller p) ≡ p
    again (variable x) o e = absurd (nothing x o e)
    again (component k c) o e = refl
    again (elsewhere zero x) o e = refl
    again (elsewhere (suc d) x) o e = refl

    pub call_fits : {kinds : Kinds} (variables : ℕ → Option ℕ) (holds : Holds) (r : Reliance) → Fits kinds objects activations (hold_of r) → Fits (callee_kinds variables kinds) objects (a ∷ activations) (hold_of (callee_reliance holds r))
    call_fits {kinds} variables holds r f = record {
      fit = kernel.seen_from f.fit (access_at objects) (value_at objects (a ∷ activations)) (hold_of (callee_reliance holds r)) (kind_of (callee_kinds variables kinds) (access_at objects)) as_caller call_reads (λ p o e s. call_says kinds variables holds r p o e s) (λ p o e own. call_owns holds r p o e own)
          (λ p q o x y u v e. let h = ap as_callee e in rw (again p o u, again q o v) at h);
    }

    pub hand_call : {kind : Option ℕ} {v : Value} (holds : Holds) (r : Reliance) → IsInHand objects activations (hold_of r) kind v → IsInHand objects (a ∷ activations) (hold_of (callee_reliance holds r)) kind v
    hand_call holds r i = record { hand = kernel.hand_seen (value_at objects (a ∷ activations)) (hold_of (callee_reliance holds r)) as_caller (λ o e q x y. (call_owns holds r q o y x, call_reads q o y)) i.hand }
