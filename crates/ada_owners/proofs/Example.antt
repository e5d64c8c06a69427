-- A state that meets the premises, and one that needs them.

use Rattle.std.proofs.Common.{◌≡◌, ℕ, zero, suc, refl, sym, ◌∙◌}
use Rattle.std.specs.Prelude.{Some}
use Rattle.std.specs.List.{slice_get}
use Rattle.ada_meaning.specs.declared.state.Id.{Id}
use Rattle.ada_meaning.specs.declared.state.Value.TheVariants.{Names}
use Rattle.ada_owners.specs.Places.{Place, variable, component, elsewhere, component_in, access_in, value_at, access_at}
use Rattle.ada_owners.specs.Reliance.{IsOf, Says, Owns, component_kind, kind_of, hold_of}
use Rattle.ada_owners.specs.Example.{kinds, id, nodes, links, reliance, LinksFit, one_node, shared, two_owners, PartedLinksFit, TwoOwnersDangle, BorrowerDangles}
use Rattle.ada_owners.proofs.Keeping.{take_pairs_keep}

-- The place that owns an object.
abbrev owner : ℕ → Place
owner zero = variable 0
owner (suc n) = component (id 0) 1

-- What a variable or a component names is there, and if it owns, it is the owner.
abbrev Right : Place → Id → Type 0
Right p o = Says (access_at nodes) (hold_of reliance p) (kind_of kinds (access_at nodes) p) o × (Owns (hold_of reliance p) → p ≡ owner o.0)

variable_right : (x : ℕ) (o : Id) → value_at nodes links (variable x) ≡ Names o → Right (variable x) o
variable_right zero o e = let same : id 0 ≡ o = cc e in rw (← same) (refl, λ own. refl)
variable_right (suc zero) o e = let same : id 1 ≡ o = cc e in rw (← same) (refl, λ own. absurd own)
variable_right (suc (suc zero)) o e = (tt, λ own. absurd own)
variable_right (suc (suc (suc x))) o e = absurd (cc e)

component_right : (n c : ℕ) (o : Id) → component_in (slice_get nodes n) c ≡ Names o → IsOf (access_at nodes) (component_kind kinds (access_in (slice_get nodes n)) c) o × (component (id n) c ≡ owner o.0)
component_right zero zero o e = absurd (cc e)
component_right zero (suc zero) o e = let same : id 1 ≡ o = cc e in rw (← same) (refl, refl)
component_right zero (suc (suc c)) o e = absurd (cc e)
component_right (suc zero) zero o e = absurd (cc e)
component_right (suc zero) (suc zero) o e = absurd (cc e)
component_right (suc zero) (suc (suc c)) o e = absurd (cc e)
component_right (suc (suc zero)) c o e = absurd (cc e)
component_right (suc (suc (suc n))) c o e = absurd (cc e)

right : (p : Place) (o : Id) → value_at nodes links p ≡ Names o → Right p o
right (variable x) o e = variable_right x o e
right (component k c) o e = let h = component_right k.0 c o e in (h.0, λ own. h.1)
right (elsewhere zero x) o e = absurd (cc e)
right (elsewhere (suc d) x) o e = absurd (cc e)

pub links_fit : LinksFit
links_fit = record { fit = record { relied = λ p o e. (right p o e).0; apart = λ p q o a b c d. (right p o c).1 a ∙ sym ((right q o d).1 b) } }

shared_variable : (x : ℕ) (o : Id) → value_at one_node shared (variable x) ≡ Names o → Says (access_at one_node) (hold_of two_owners (variable x)) (Some 0) o
shared_variable zero o e = let same : id 0 ≡ o = cc e in rw (← same) refl
shared_variable (suc zero) o e = let same : id 0 ≡ o = cc e in rw (← same) refl
shared_variable (suc (suc x)) o e = absurd (cc e)

shared_component : (n c : ℕ) (o : Id) → component_in (slice_get one_node n) c ≡ Names o → ⊥
shared_component zero zero o e = cc e
shared_component zero (suc zero) o e = cc e
shared_component zero (suc (suc c)) o e = cc e
shared_component (suc n) c o e = cc e

shared_right : (p : Place) (o : Id) → value_at one_node shared p ≡ Names o → Says (access_at one_node) (hold_of two_owners p) (kind_of kinds (access_at one_node) p) o
shared_right (variable x) o e = shared_variable x o e
shared_right (component k c) o e = absurd (shared_component k.0 c o e)
shared_right (elsewhere zero x) o e = absurd (cc e)
shared_right (elsewhere (suc d) x) o e = absurd (cc e)

pub two_owners_dangle : TwoOwnersDangle
two_owners_dangle = (shared_right, tt, refl, refl)

pub borrower_dangles : BorrowerDangles
borrower_dangles = (tt, refl, refl)

pub parted_links_fit : PartedLinksFit
parted_links_fit = take_pairs_keep kinds nodes links reliance links_fit 2 (id 0) 1 0 refl refl refl
