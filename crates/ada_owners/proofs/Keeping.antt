-- The laws, each from the changes that it is made of.

use Rattle.std.proofs.Common.{◌≡◌, ◌≢◌, ℕ, List, [], ◌∷◌, refl, ◌∙◌}
use Rattle.std.specs.Prelude.{Option, Some, None}
use Rattle.ada_flow.specs.declared.rule.Hold.{Hold}
use Rattle.ada_flow.specs.declared.rule.Hold.TheVariants as held
use Rattle.ada_flow.specs.declared.rule.Region.TheVariants.{Whole}
use Rattle.ada_meaning.specs.declared.state.Id.{Id}
use Rattle.ada_meaning.specs.declared.state.Value.TheVariants.{Names}
use Rattle.ada_meaning.specs.Named.{Object, object_at, create, parted, finished, returned}
use Rattle.ada_owners.specs.Places.{Place, component, value_at, access_at, is_lent}
use Rattle.ada_flow.specs.Flow.{without_aliases}
use Rattle.ada_owners.specs.Reliance.{IsOf, Says, Borrows, hold_of, with_hold, with_lent, component_hold, callee_reliance, caller_reliance}
use Rattle.ada_owners.specs.Keeping.{FirstStatesFit, IsThere, OwnedAreThere, BorrowedAreThere, OwnersAreAlone, MovesKeep, BorrowsKeep, StoresKeep, TakesKeep, ClearsKeep, TakePairsKeep, ComponentPairsKeep, AllocationsKeep, PutsKeep, InsertionsKeep, EndsKeep, FreesKeep, ComponentFreesKeep, SparesKeep, MembersEnd, ClosesKeep, CallsKeep, ReturnsKeep, ActualsKeep, CopiesBackKeep, WalksAreRight, with_freed, without, ended, given_back}
use Rattle.ada_owners.proofs.Kernel as kernel
use Rattle.ada_owners.proofs.Objects.{present_at, next_id, at_older, not_past}
use Rattle.ada_owners.proofs.Changes.{first_fits, blank_null, at_here, changed_is, store_access}
use Rattle.ada_owners.proofs.Creations.{create_fits, created_hand}
use Rattle.ada_owners.proofs.Ends.{hand_unnamed, part_fits, part_unnamed, finish_fits, back_fits, others_stay}
use Rattle.ada_owners.proofs.Reliances.{lose_fits, lost_hand, put_owned, put_borrowed, put_nothing, move_fits, some_component, lend_fits, lent_hand, store_owned, store_repaid, forget_fits, hand_forget, none_borrows}
use Rattle.ada_owners.proofs.Calls.{call_fits, return_fits, hand_call, hand_return}
use Rattle.ada_owners.proofs.Collections.{spare_fits, closed_fits, spared_part, spared_finish, spared_back}
use Rattle.ada_owners.proofs.Walks.{path_right, every_may}

there_by : (objects : List Object) (k : Option ℕ) (o : Id) → IsOf (access_at objects) k o → IsThere objects o
there_by objects None o s = absurd s
there_by objects (Some t) o s = let h = present_at objects o t s in (h.object, h.found, h.there)

borrower_right : (access : Id → Option ℕ) (h : Hold) (k : Option ℕ) (o : Id) → Borrows h → Says access h k o → IsOf access k o
borrower_right access held.Null k o b s = absurd b
borrower_right access (held.Kept r) k o b s = absurd b
borrower_right access (held.Own r) k o b s = absurd b
borrower_right access (held.Alias r) k o b s = s
borrower_right access held.Lost k o b s = absurd b

own_some : held.Own Whole ≢ held.Null
own_some e = cc e

alias_some : held.Alias Whole ≢ held.Null
alias_some e = cc e

pub first_states_fit : FirstStatesFit
first_states_fit kinds body r nothing = first_fits kinds body (hold_of r) nothing

pub owned_are_there : OwnedAreThere
owned_are_there kinds objects activations r f p o own e = there_by objects _ o (kernel.owned_at f.fit p own o e)

pub borrowed_are_there : BorrowedAreThere
borrowed_are_there kinds objects activations r f p o b e = there_by objects _ o (borrower_right (access_at objects) (hold_of r p) _ o b (f.fit.relied p o e))

pub owners_are_alone : OwnersAreAlone
owners_are_alone kinds objects activations r f p q o a b c d = f.fit.apart p q o a b c d

pub moves_keep : MovesKeep
moves_keep kinds objects activations r f x y own kind = move_fits r x y (held.Own Whole) own_some own kind f

pub borrows_keep : BorrowsKeep
borrows_keep kinds objects activations r f x p ne kind = put_borrowed r x p (held.Alias Whole) alias_some (λ a. a) ne kind f

pub stores_keep : StoresKeep
stores_keep kinds objects activations r f o c t y is own kind =
    let h = present_at objects o t is in
    store_owned (with_hold y held.Lost r) o c h.object h.found (rw is (rw kind (lost_hand r y own f))) (lose_fits r y f)

pub takes_keep : TakesKeep
takes_keep kinds objects activations r f x o c t is kind owned =
    put_owned (with_lent o c r) x (held.Own Whole) own_some (rw (← kind) (rw is at (lent_hand r o c owned f))) (lend_fits r o c f)

pub clears_keep : ClearsKeep
clears_keep kinds objects activations r o c t is f = let h = present_at objects o t is in store_repaid r o c h.object h.found blank_null f

pub take_pairs_keep : TakePairsKeep
take_pairs_keep kinds objects activations r f x o c t is kind owned =
    clears_keep kinds objects _ (with_hold x (held.Own Whole) r) o c t is (takes_keep kinds objects activations r f x o c t is kind owned)

pub component_pairs_keep : ComponentPairsKeep
component_pairs_keep kinds objects activations r f k o d c u t at_k at_o kind owned =
    let h = present_at objects k u at_k in
    let v = value_at objects activations (component o c) in
    clears_keep kinds _ activations r o c t (store_access objects k h.object h.found d v o ∙ at_o)
    (store_owned (with_lent o c r) k d h.object h.found (rw at_k (rw kind (rw at_o at (lent_hand r o c owned f)))) (lend_fits r o c f))

pub allocations_keep : AllocationsKeep
allocations_keep kinds objects activations r f words cell items =
    (create_fits objects words cell (λ c. some_component (is_lent r.lent (next_id objects) c)) f items, created_hand objects words cell f items)

pub insertions_keep : InsertionsKeep
insertions_keep kinds objects activations r o c t words cell f is kind items =
    let h = present_at objects o t is in
    let both = allocations_keep kinds objects activations (with_lent o c r) f words cell items in
    let found = at_older objects words cell o (not_past objects o h.object h.found) ∙ h.found in
    let same : access_at (create objects words cell) o ≡ Some t = rw (found, h.there, h.access) refl in
    store_repaid r o c h.object found (rw same (rw kind both.1)) both.0

pub puts_keep : PutsKeep
puts_keep kinds objects activations r f x v i = put_owned r x (held.Own Whole) own_some i f

pub ends_keep : EndsKeep
ends_keep kinds objects activations r f o t i none =
    let h = present_at objects o t (i.hand.right o refl) in
    let v = Names o in
    let one = part_fits objects o h.object h.found f in
    let at_one : object_at (without objects v) o ≡ Some (parted h.object) = rw (changed_is objects o h.object h.found (parted h.object) parted refl) (at_here objects o h.object h.found (parted h.object)) in
    let two = finish_fits (without objects v) o (parted h.object) at_one one (part_unnamed objects o h.object h.found o (hand_unnamed t o f i none)) in
    let at_two : object_at (ended objects v) o ≡ Some (finished (parted h.object)) = rw (changed_is (without objects v) o (parted h.object) at_one (finished (parted h.object)) finished refl) (at_here (without objects v) o (parted h.object) at_one (finished (parted h.object))) in
    (one, two, back_fits (ended objects v) o (finished (parted h.object)) at_two two)

pub frees_keep : FreesKeep
frees_keep kinds objects activations r f variables x t o same outer typed own is =
    let lost = lose_fits r x f in
    let i = hand_forget (with_hold x held.Lost r) variables t (rw (typed, is) at (lost_hand r x own f)) in
    let gone = ends_keep kinds objects activations (with_freed variables t x r) (forget_fits (with_hold x held.Lost r) variables t lost) o t i (none_borrows kinds (access_at objects) (with_hold x held.Lost r) variables t same outer) in
    put_nothing (with_freed variables t x r) x held.Null (λ k e. cc e) gone.2

pub component_frees_keep : ComponentFreesKeep
component_frees_keep kinds objects activations r f variables o k c u t same outer at_o other typed owned is =
    let i = lent_hand r o c owned f in
    let freed = hand_forget (with_lent o c r) variables t (rw (at_o, typed, is) at i) in
    let differs : o ≢ k = λ e. other (cc (at_o, freed.hand.right k refl, e)) in
    let gone = ends_keep kinds objects activations (with_lent o c (record r { holds = without_aliases variables t r.holds })) (forget_fits (with_lent o c r) variables t (lend_fits r o c f)) k t freed (none_borrows kinds (access_at objects) (with_lent o c r) variables t same outer) in
    let there = others_stay returned (ended objects (Names k)) k o differs ∙ others_stay finished (without objects (Names k)) k o differs ∙ others_stay parted objects k o differs ∙ at_o in
    clears_keep kinds (given_back objects (Names k)) activations (record r { holds = without_aliases variables t r.holds }) o c u there gone.2

pub members_end : MembersEnd
members_end kinds objects activations r types o t f is among =
    let h = present_at objects o t is in
    let v = Names o in
    let one = spared_part kinds objects (hold_of r) types o h.object h.found f in
    let at_one : object_at (without objects v) o ≡ Some (parted h.object) = rw (changed_is objects o h.object h.found (parted h.object) parted refl) (at_here objects o h.object h.found (parted h.object)) in
    let still : access_at (without objects v) o ≡ Some t = rw at_one (rw (h.there, h.access) refl) in
    let two = spared_finish kinds (without objects v) (hold_of r) types o (parted h.object) t at_one still among one in
    let at_two : object_at (ended objects v) o ≡ Some (finished (parted h.object)) = rw (changed_is (without objects v) o (parted h.object) at_one (finished (parted h.object)) finished refl) (at_here (without objects v) o (parted h.object) at_one (finished (parted h.object))) in
    (one, two, spared_back kinds (ended objects v) (hold_of r) types o (finished (parted h.object)) at_two two)

pub spares_keep : SparesKeep
spares_keep kinds objects activations r f types = spare_fits kinds objects (hold_of r) types f

pub closes_keep : ClosesKeep
closes_keep kinds objects activations r types lost f = closed_fits kinds objects (hold_of r) types lost f

pub calls_keep : CallsKeep
calls_keep kinds objects activations r f callee variables holds nothing = call_fits objects callee activations nothing variables holds r f

pub returns_keep : ReturnsKeep
returns_keep kinds objects callee activations r f = return_fits objects callee activations r f

pub actuals_keep : ActualsKeep
actuals_keep kinds objects activations r f callee variables holds x y nothing own kind =
    let lost = with_hold y held.Lost r in
    let i = hand_call objects callee activations nothing holds lost (lost_hand r y own f) in
    put_owned (callee_reliance holds lost) x (held.Own Whole) own_some (rw kind i) (call_fits objects callee activations nothing variables holds lost (lose_fits r y f))

pub copies_back_keep : CopiesBackKeep
copies_back_keep kinds objects callee activations r x y f own kind =
    let lost = with_hold x held.Lost r in
    let i = hand_return objects callee activations lost (lost_hand r x own f) in
    put_owned (caller_reliance lost) y (held.Own Whole) own_some (rw kind i) (return_fits objects callee activations lost (lose_fits r x f))

pub walks_are_right : WalksAreRight
walks_are_right kinds objects activations r f p cs none ne =
    path_right f (λ t. Unit {0}) (λ o c t is may lost. not_lost r.lent none o c lost) p cs ne (every_may kinds _ cs)
  where
    not_lost : (lent : List Place) → lent ≡ [] → (o : Id) (c : ℕ) → component_hold (is_lent lent o c) ≢ held.Lost
    not_lost [] e o c lost = cc lost
    not_lost (p ∷ ps) e o c lost = cc e
