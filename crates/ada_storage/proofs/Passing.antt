-- The leaving of a master passes its items from the newest to the oldest.

use Rattle.std.proofs.Common.{◌≡◌, ℕ, zero, suc, ◌<◌, Bool, true, false, List, [], ◌∷◌, subst, arith}
use Rattle.ada_storage.specs.State.{Forest, none, tree, Cause, leaving, freeing, undoing, assigning, Event, quiet, Owned, declared, collection, Item, Master, to_items, to_collection, Job, all_in, call, called, Mode, running, raising, Control, stops, acts, leaves, finalizes, frees, initializes, undoes, assigns, adjusts, State, in_list, listed, assigned, opens, is_top}
use Rattle.ada_storage.specs.Step.{Choice, goes_on, takes, joins_as, enters, finishes, raises, catches, declares, collects, allocates, deallocates, copies, Outcome, stuck, erroneous, goes, finalize_by, Ending, at_leaving, at_free, at_assignment, frame, ended, ends_part, ends_whole, ends, Beginning, at_creation, at_adjustment, frame_of, is_above, owns_by, joins_items, joins_by, begun, begins_part, begins, rolls_back, member, leave_owned, leave, allocates_by, frees_by, all_alive, copies_by, act, running_step, raising_act, raising_step, mode_step, step}
use Rattle.ada_storage.proofs.Invariant.{Past}
use Rattle.ada_storage.specs.Law.{NotAbove, EventNotAbove}
use Rattle.ada_storage.proofs.Stack.{past_parted, falls_more, falls_parted}
use Rattle.ada_storage.proofs.Joining.{past_joined}

pub record Passing (a n : ℕ) (e : Event) (k : Control) (next : ℕ) : Type 0 where
  pub past : Past a n k
  pub lt : a < next
  pub below : EventNotAbove a n e

abbrev Passes : ℕ → ℕ → Outcome → Type 0
Passes a n stuck = Unit {0}
Passes a n erroneous = Unit {0}
Passes a n (goes e t) = Passing a n e t.control t.next

finalize_passes : (a n : ℕ) (b code : Bool) (o x : ℕ) (cause : Cause) (k : Control) (s : State) → Past a n k → a < s.next → NotAbove a n cause → Passes a n (finalize_by b code o x cause k s)
finalize_passes a n false code o x cause k s p lt c = tt
finalize_passes a n true false o x cause k s p lt c = record { past = p; lt = lt; below = c }
finalize_passes a n true true o x cause k s p lt c = record { past = (λ e. omega (arith, e, lt), p); lt = omega (arith, lt); below = c }

ended_passes : (a n : ℕ) (ending : Ending) (o : ℕ) (s : State) → Past a n (frame ending o []) → a < s.next → Passes a n (ended ending o s)
ended_passes a n (at_leaving m i mode k) o s p lt = record { past = (λ e. (p.0 e).1, p.1); lt = lt; below = λ e. (p.0 e).0 }
ended_passes a n (at_free x k) o s p lt = record { past = p; lt = lt; below = tt }
ended_passes a n (at_assignment x f k) o s p lt = record { past = p; lt = lt; below = tt }

ends_part_passes : (a n : ℕ) (b : Bool) (x : ℕ) (ending : Ending) (o : ℕ) (f : Forest) (fs : List Forest) (s : State) → Past a n (frame ending o (f ∷ fs)) → a < s.next → Passes a n (ends_part b x ending o f fs s)
ends_part_passes a n false x ending o f fs s p lt = tt
ends_part_passes a n true x (at_leaving m i mode k) o f fs s p lt = record { past = p; lt = lt; below = tt }
ends_part_passes a n true x (at_free z k) o f fs s p lt = record { past = p; lt = lt; below = tt }
ends_part_passes a n true x (at_assignment z g k) o f fs s p lt = record { past = p; lt = lt; below = tt }

ends_whole_passes : (a n : ℕ) (rest : Forest) (code : Bool) (x : ℕ) (kids : Forest) (ending : Ending) (o : ℕ) (fs : List Forest) (s : State) → Past a n (frame ending o (tree x kids rest ∷ fs)) → a < s.next → Passes a n (ends_whole rest code x kids ending o fs s)
ends_whole_passes a n (tree q others rest) code x kids ending o fs s p lt = tt
ends_whole_passes a n none code x kids (at_leaving m i mode k) o fs s p lt = finalize_passes a n (s.alive o x) code o x (leaving m.number i) _ s p lt (λ e. (p.0 e).0)
ends_whole_passes a n none code x kids (at_free z k) o fs s p lt = finalize_passes a n (s.alive o x) code o x (freeing z) _ s p lt tt
ends_whole_passes a n none code x kids (at_assignment z g k) o fs s p lt = finalize_passes a n (s.alive o x) code o x (assigning z) _ s p lt tt

none_passes : (a n : ℕ) (ending : Ending) (o : ℕ) (fs : List Forest) (s : State) → Past a n (frame ending o (none ∷ fs)) → a < s.next → Passing a n quiet (frame ending o fs) s.next
none_passes a n (at_leaving m i mode k) o fs s p lt = record { past = p; lt = lt; below = tt }
none_passes a n (at_free x k) o fs s p lt = record { past = p; lt = lt; below = tt }
none_passes a n (at_assignment x f k) o fs s p lt = record { past = p; lt = lt; below = tt }

ends_pass : (a n : ℕ) (fs : List Forest) (c : Choice) (ending : Ending) (o : ℕ) (s : State) → Past a n (frame ending o fs) → a < s.next → Passes a n (ends fs c ending o s)
ends_pass a n [] goes_on ending o s p lt = ended_passes a n ending o s p lt
ends_pass a n [] c ending o s p lt = tt
ends_pass a n (none ∷ fs) goes_on ending o s p lt = none_passes a n ending o fs s p lt
ends_pass a n (none ∷ fs) c ending o s p lt = tt
ends_pass a n (tree x kids rest ∷ fs) (takes y) ending o s p lt = ends_part_passes a n (is_top y (tree x kids rest)) y ending o (tree x kids rest) fs s p lt
ends_pass a n (tree x kids rest ∷ fs) goes_on ending o s p lt = ends_whole_passes a n rest false x kids ending o fs s p lt
ends_pass a n (tree x kids rest ∷ fs) enters ending o s p lt = ends_whole_passes a n rest true x kids ending o fs s p lt
ends_pass a n (tree x kids rest ∷ fs) c ending o s p lt = tt

owns_passes : (a n : ℕ) (b : Bool) (c : ℕ) (owned : Owned) (m : Master) (k : Control) (s : State) → Past a n (acts m k) → a < s.next → Passes a n (owns_by b c owned m k s)
owns_passes a n false c owned m k s p lt = tt
owns_passes a n true c owned m k s p lt = record { past = p; lt = lt; below = tt }

joins_items_passes : (a n c : ℕ) (k : Control) (o : ℕ) (s : State) → Past a n k → a < s.next → Passes a n (joins_items c k o s)
joins_items_passes a n c (acts m k) o s p lt = owns_passes a n (is_above c m.items) c (declared o) m k s p lt
joins_items_passes a n c k o s p lt = tt

joins_by_passes : (a n z b c o : ℕ) (k : Control) (s : State) → Past a n k → a < s.next → Passes a n (joins_by z b c o k s)
joins_by_passes a n (suc zero) b c o k s p lt = record { past = past_joined a n b c o k p; lt = lt; below = tt }
joins_by_passes a n zero b c o k s p lt = tt
joins_by_passes a n (suc (suc z)) b c o k s p lt = tt

begun_passes : (a n : ℕ) (c : Choice) (beginning : Beginning) (o : ℕ) (s : State) → Past a n (frame_of beginning o [] []) → a < s.next → Passes a n (begun c beginning o s)
begun_passes a n (joins_as c) (at_creation to_items k) o s p lt = joins_items_passes a n c k o s p lt
begun_passes a n goes_on (at_creation (to_collection b c) k) o s p lt = joins_by_passes a n (opens b c k) b c o k s p lt
begun_passes a n goes_on (at_adjustment f k) o s p lt = record { past = p; lt = lt; below = tt }
begun_passes a n c beginning o s p lt = tt

-- What a beginning's frame holds doesn't matter.
any : (a n : ℕ) (beginning : Beginning) (o : ℕ) (js ks : List Job) (done other : List ℕ) → Past a n (frame_of beginning o js done) → Past a n (frame_of beginning o ks other)
any a n (at_creation joins k) o js ks done other p = p
any a n (at_adjustment f k) o js ks done other p = p

begins_part_passes : (a n : ℕ) (b : Bool) (x : ℕ) (beginning : Beginning) (o : ℕ) (f : Forest) (js : List Job) (done : List ℕ) (s : State) → Past a n (frame_of beginning o [] []) → a < s.next → Passes a n (begins_part b x beginning o f js done s)
begins_part_passes a n false x beginning o f js done s p lt = tt
begins_part_passes a n true x beginning o f js done s p lt = record { past = any a n beginning o [] _ [] done p; lt = lt; below = tt }

begins_pass : (a n : ℕ) (js : List Job) (c : Choice) (beginning : Beginning) (o : ℕ) (done : List ℕ) (s : State) → Past a n (frame_of beginning o [] []) → a < s.next → Passes a n (begins js c beginning o done s)
begins_pass a n [] c beginning o done s p lt = begun_passes a n c beginning o s p lt
begins_pass a n (all_in none ∷ js) goes_on beginning o done s p lt = record { past = any a n beginning o [] js [] done p; lt = lt; below = tt }
begins_pass a n (all_in none ∷ js) c beginning o done s p lt = tt
begins_pass a n (all_in (tree x kids rest) ∷ js) (takes y) beginning o done s p lt = begins_part_passes a n (is_top y (tree x kids rest)) y beginning o (tree x kids rest) js done s p lt
begins_pass a n (all_in (tree x kids rest) ∷ js) c beginning o done s p lt = tt
begins_pass a n (call x ∷ js) goes_on beginning o done s p lt = record { past = any a n beginning o [] js [] (x ∷ done) p; lt = lt; below = tt }
begins_pass a n (call x ∷ js) enters beginning o done s p lt = record { past = (λ e. omega (arith, e, lt), any a n beginning o [] (called x ∷ js) [] done p); lt = omega (arith, lt); below = tt }
begins_pass a n (call x ∷ js) c beginning o done s p lt = tt
begins_pass a n (called x ∷ js) goes_on beginning o done s p lt = record { past = any a n beginning o [] js [] (x ∷ done) p; lt = lt; below = tt }
begins_pass a n (called x ∷ js) c beginning o done s p lt = tt

rolls_back_passes : (a n : ℕ) (done : List ℕ) (c : Choice) (z o : ℕ) (k : Control) (s : State) → Past a n k → a < s.next → Passes a n (rolls_back done c z o k s)
rolls_back_passes a n [] goes_on z o k s p lt = record { past = p; lt = lt; below = tt }
rolls_back_passes a n [] c z o k s p lt = tt
rolls_back_passes a n (x ∷ done) goes_on z o k s p lt = finalize_passes a n (s.alive o x) false o x (undoing z) _ s p lt tt
rolls_back_passes a n (x ∷ done) enters z o k s p lt = finalize_passes a n (s.alive o x) true o x (undoing z) _ s p lt tt
rolls_back_passes a n (x ∷ done) c z o k s p lt = tt

member_passes : (a n l o b : ℕ) (owned : Owned) (is : List Item) (z : ℕ) (mode : Mode) (k : Control) (s : State) → Past a n (leaves (record { number = z; items = record { number = b; owned = owned } ∷ is }) mode k) → a < s.next → Passes a n (member l o (record { number = b; owned = owned }) is (record { number = z; items = record { number = b; owned = owned } ∷ is }) mode k s)
member_passes a n zero o b owned is z mode k s p lt = tt
member_passes a n (suc l) o b owned is z mode k s p lt = record { past = (λ e. (let h = (p.0 e).0 in omega (arith, h), ((p.0 e).0, falls_parted b o is (p.0 e).1)), past_parted a n o k p.1); lt = lt; below = tt }

leave_owned_passes : (a n : ℕ) (owned : Owned) (c : Choice) (b : ℕ) (is : List Item) (z : ℕ) (mode : Mode) (k : Control) (s : State) → Past a n (leaves (record { number = z; items = record { number = b; owned = owned } ∷ is }) mode k) → a < s.next → Passes a n (leave_owned owned c (record { number = b; owned = owned }) is (record { number = z; items = record { number = b; owned = owned } ∷ is }) mode k s)
leave_owned_passes a n (declared o) goes_on b is z mode k s p lt = record { past = (λ e. (let h = (p.0 e).0 in omega (arith, h), falls_more b (suc n) is (let h = (p.0 e).0 in omega (arith, h)) (p.0 e).1), p.1); lt = lt; below = tt }
leave_owned_passes a n (declared o) c b is z mode k s p lt = tt
leave_owned_passes a n (collection []) goes_on b is z mode k s p lt = record { past = (λ e. falls_more b (suc n) is (let h = (p.0 e).0 in omega (arith, h)) (p.0 e).1, p.1); lt = lt; below = tt }
leave_owned_passes a n (collection []) c b is z mode k s p lt = tt
leave_owned_passes a n (collection (o ∷ os)) (takes x) b is z mode k s p lt = member_passes a n (in_list x (o ∷ os)) x b (collection (o ∷ os)) is z mode k s p lt
leave_owned_passes a n (collection (o ∷ os)) c b is z mode k s p lt = tt

leave_passes : (a n : ℕ) (items : List Item) (c : Choice) (z : ℕ) (mode : Mode) (k : Control) (s : State) → Past a n (leaves (record { number = z; items = items }) mode k) → a < s.next → Passes a n (leave items c (record { number = z; items = items }) mode k s)
leave_passes a n [] goes_on z mode k s p lt = record { past = p.1; lt = lt; below = tt }
leave_passes a n [] c z mode k s p lt = tt
leave_passes a n (i ∷ is) c z mode k s p lt = leave_owned_passes a n i.owned c i.number is z mode k s p lt

allocates_passes : (a n l b c : ℕ) (f : Forest) (m : Master) (k : Control) (s : State) → Past a n (acts m k) → a < s.next → Passes a n (allocates_by l b c f m k s)
allocates_passes a n (suc zero) b c f m k s p lt = record { past = p; lt = lt; below = tt }
allocates_passes a n zero b c f m k s p lt = tt
allocates_passes a n (suc (suc l)) b c f m k s p lt = tt

frees_passes : (a n l z o : ℕ) (m : Master) (k : Control) (s : State) → Past a n (acts m k) → a < s.next → Passes a n (frees_by l z o m k s)
frees_passes a n (suc l) zero o m k s p lt = record { past = past_parted a n o (acts m k) p; lt = omega (arith, lt); below = tt }
frees_passes a n zero z o m k s p lt = tt
frees_passes a n (suc l) (suc z) o m k s p lt = tt

copies_passes : (a n : ℕ) (l z : Bool) (o : ℕ) (f : Forest) (m : Master) (k : Control) (s : State) → Past a n (acts m k) → a < s.next → Passes a n (copies_by l z o f m k s)
copies_passes a n true true o f m k s p lt = record { past = p; lt = omega (arith, lt); below = tt }
copies_passes a n true false o f m k s p lt = tt
copies_passes a n false z o f m k s p lt = tt

act_passes : (a n : ℕ) (c : Choice) (m : Master) (k : Control) (s : State) → Past a n (acts m k) → a < s.next → Passes a n (act c m k s)
act_passes a n goes_on m k s p lt = tt
act_passes a n (takes x) m k s p lt = tt
act_passes a n enters m k s p lt = record { past = (λ e. omega (arith, e, lt), p); lt = omega (arith, lt); below = tt }
act_passes a n finishes m k s p lt = record { past = (λ e. absurd (p.0 e), p.1); lt = lt; below = tt }
act_passes a n raises m k s p lt = record { past = p; lt = lt; below = tt }
act_passes a n catches m k s p lt = tt
act_passes a n (declares f w) m k s p lt = record { past = p; lt = lt; below = tt }
act_passes a n (collects c) m k s p lt = owns_passes a n (is_above c m.items) c (collection []) m k s p lt
act_passes a n (joins_as c) m k s p lt = tt
act_passes a n (allocates b c f w) m k s p lt = allocates_passes a n (opens b c (acts m k)) b c f m k s p lt
act_passes a n (deallocates o) m k s p lt = frees_passes a n (listed o (acts m k)) (assigned o (acts m k)) o m k s p lt
act_passes a n (copies o f w) m k s p lt = copies_passes a n (s.objects o).lives (all_alive (s.alive o) f) o f m k s p lt

running_passes : (a n : ℕ) (c : Choice) (k : Control) (s : State) → Past a n k → a < s.next → Passes a n (running_step c k s)
running_passes a n c stops s p lt = tt
running_passes a n c (acts m k) s p lt = act_passes a n c m k s p lt
running_passes a n c (leaves m mode k) s p lt = leave_passes a n m.items c m.number mode k s p lt
running_passes a n c (finalizes m i o fs mode k) s p lt = ends_pass a n fs c (at_leaving m i mode k) o s p lt
running_passes a n c (frees x o fs k) s p lt = ends_pass a n fs c (at_free x k) o s p lt
running_passes a n c (initializes o joins js done k) s p lt = begins_pass a n js c (at_creation joins k) o done s p lt
running_passes a n c (undoes x o done k) s p lt = rolls_back_passes a n done c x o k s p lt
running_passes a n c (assigns x o f fs k) s p lt = ends_pass a n fs c (at_assignment x f k) o s p lt
running_passes a n c (adjusts o f js done k) s p lt = begins_pass a n js c (at_adjustment f k) o done s p lt

raising_act_passes : (a n : ℕ) (c : Choice) (m : Master) (k : Control) (s : State) → Past a n (acts m k) → a < s.next → Passes a n (raising_act c m k s)
raising_act_passes a n catches m k s p lt = record { past = p; lt = lt; below = tt }
raising_act_passes a n goes_on m k s p lt = record { past = (λ e. absurd (p.0 e), p.1); lt = lt; below = tt }
raising_act_passes a n c m k s p lt = tt

raising_passes : (a n : ℕ) (c : Choice) (k : Control) (s : State) → Past a n k → a < s.next → Passes a n (raising_step c k s)
raising_passes a n c (acts m k) s p lt = raising_act_passes a n c m k s p lt
raising_passes a n c (initializes o joins js done k) s p lt = record { past = p; lt = omega (arith, lt); below = tt }
raising_passes a n c k s p lt = tt

mode_passes : (a n : ℕ) (mode : Mode) (c : Choice) (s : State) → Past a n s.control → a < s.next → Passes a n (mode_step mode c s)
mode_passes a n running c s p lt = running_passes a n c s.control s p lt
mode_passes a n raising c s p lt = raising_passes a n c s.control s p lt

pub step_passes : (a n : ℕ) (c : Choice) (s : State) (e : Event) (t : State) → Past a n s.control → a < s.next → step c s ≡ goes e t → Passing a n e t.control t.next
unfolding step
step_passes a n c s e t p lt is = subst (Passes a n) is (mode_passes a n s.mode c s p lt)
