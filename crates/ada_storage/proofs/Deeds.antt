-- What one step does to values and objects, and what follows for runs of any kind.

use Rattle.std.proofs.Common.{◌≡◌, ℕ, zero, suc, ◌<◌, ◌≤◌, Bool, true, false, List, [], ◌∷◌, refl, sym, inl, inr, subst, arith}
use Rattle.std.proofs.lemmas.Bool.Decides.{eqb_tells}
use Rattle.ada_storage.proofs.Facts.{put_here, put_there}
use Rattle.ada_storage.specs.State.{Forest, none, tree, Value, Cause, undoing, Event, born, finalized, back, left, quiet, Owned, declared, collection, Item, Master, to_items, to_collection, Job, all_in, call, called, Mode, running, raising, Control, stops, acts, leaves, finalizes, frees, initializes, undoes, assigns, adjusts, Object, State, put, put_part, in_list, listed, assigned, opens, is_top}
use Rattle.ada_storage.specs.Step.{Choice, goes_on, takes, joins_as, enters, finishes, raises, catches, declares, collects, allocates, deallocates, copies, Outcome, stuck, erroneous, goes, finalize_by, Ending, at_leaving, at_free, at_assignment, cause_of, ended, ends_part, ends_whole, ends, Beginning, at_creation, at_adjustment, is_above, owns_by, joins_items, joins_by, begun, begins_part, begins, rolls_back, member, leave_owned, leave, allocates_by, frees_by, all_alive, copies_by, act, running_step, raising_act, raising_step, mode_step, step}

-- What is done to the objects: what is gone stays gone, and a home stays the same.
abbrev pub Keeps : Object → Object → Type 0
Keeps a b = (a.lives ≡ false → b.lives ≡ false) × (b.home ≡ a.home)

abbrev pub Older : (ℕ → Object) → ℕ → (ℕ → Object) → ℕ → Type 0
Older T n U m = (n ≤ m) × ((o : ℕ) → o < n → Keeps (T o) (U o))

same_things : (T : ℕ → Object) (n m : ℕ) → n ≤ m → Older T n T m
same_things T n m le = (le, λ o lt. (λ h. h, refl))

gone_things : (T : ℕ → Object) (n x : ℕ) → Older T n (put T x (record (T x) { lives = false })) n
gone_things T n x = (omega arith, λ o lt. elim (eqb_tells o x) [ inl h ↦ subst (λ (y : ℕ). Keeps (T y) (put T x (record (T x) { lives = false }) y)) (sym h.1) (subst (λ (u : Object). Keeps (T x) u) (sym (put_here T x (record (T x) { lives = false }))) (λ g. refl, refl)) | inr h ↦ subst (λ (u : Object). Keeps (T o) u) (sym (put_there T x (record (T x) { lives = false }) o h.1)) (λ g. g, refl) ])

new_things : (T : ℕ → Object) (n : ℕ) (t : Object) → Older T n (put T n t) (suc n)
new_things T n t = (omega arith, λ o lt. subst (λ (u : Object). Keeps (T o) u) (sym (put_there T n t o (λ e. omega (arith, lt, e)))) (λ g. g, refl))

-- What is done to the values.
pub record Same (s t : State) : Type 0 where
  pub older : Older s.objects s.created t.objects t.created
  pub alive : t.alive ≡ s.alive
  pub turn : t.turn ≡ s.turn

pub record Dies (v : Value) (s t : State) : Type 0 where
  pub older : Older s.objects s.created t.objects t.created
  pub was : s.alive v.object v.part ≡ true
  pub turn : v.turn ≡ s.turn v.object v.part
  pub alive : t.alive ≡ put_part s.alive v.object v.part false
  pub turns : t.turn ≡ put_part s.turn v.object v.part (suc v.turn)

pub record Begins (v : Value) (s t : State) : Type 0 where
  pub older : Older s.objects s.created t.objects t.created
  pub turn : v.turn ≡ s.turn v.object v.part
  pub alive : t.alive ≡ put_part s.alive v.object v.part true
  pub turns : t.turn ≡ s.turn

abbrev pub Deed : Event → State → State → Type 0
Deed (born v by) s t = Begins v s t
Deed (finalized v cause) s t = Dies v s t
Deed (back o cause) s t = Same s t
Deed (left m) s t = Same s t
Deed quiet s t = Same s t

abbrev Does : State → Outcome → Type 0
Does s stuck = Unit {0}
Does s erroneous = Unit {0}
Does s (goes e t) = Deed e s t

finalize_does : (b code : Bool) (o p : ℕ) (cause : Cause) (k : Control) (s : State) → s.alive o p ≡ b → Does s (finalize_by b code o p cause k s)
finalize_does false code o p cause k s e = tt
finalize_does true true o p cause k s e = record { older = same_things s.objects _ _ (omega arith); was = e; turn = refl; alive = refl; turns = refl }
finalize_does true false o p cause k s e = record { older = same_things s.objects _ _ (omega arith); was = e; turn = refl; alive = refl; turns = refl }

ended_does : (ending : Ending) (o : ℕ) (s : State) → Does s (ended ending o s)
ended_does (at_leaving m i mode k) o s = record { older = gone_things s.objects s.created o; alive = refl; turn = refl }
ended_does (at_free n k) o s = record { older = gone_things s.objects s.created o; alive = refl; turn = refl }
ended_does (at_assignment n f k) o s = record { older = same_things s.objects _ _ (omega arith); alive = refl; turn = refl }

ends_part_does : (b : Bool) (x : ℕ) (ending : Ending) (o : ℕ) (f : Forest) (fs : List Forest) (s : State) → Does s (ends_part b x ending o f fs s)
ends_part_does false x ending o f fs s = tt
ends_part_does true x ending o f fs s = record { older = same_things s.objects _ _ (omega arith); alive = refl; turn = refl }

ends_whole_does : (rest : Forest) (code : Bool) (p : ℕ) (kids : Forest) (ending : Ending) (o : ℕ) (fs : List Forest) (s : State) → Does s (ends_whole rest code p kids ending o fs s)
ends_whole_does none code p kids ending o fs s = finalize_does (s.alive o p) code o p (cause_of ending) _ s refl
ends_whole_does (tree q others rest) code p kids ending o fs s = tt

ends_do : (fs : List Forest) (c : Choice) (ending : Ending) (o : ℕ) (s : State) → Does s (ends fs c ending o s)
ends_do [] goes_on ending o s = ended_does ending o s
ends_do [] c ending o s = tt
ends_do (none ∷ fs) goes_on ending o s = record { older = same_things s.objects _ _ (omega arith); alive = refl; turn = refl }
ends_do (none ∷ fs) c ending o s = tt
ends_do (tree p kids rest ∷ fs) (takes x) ending o s = ends_part_does (is_top x (tree p kids rest)) x ending o (tree p kids rest) fs s
ends_do (tree p kids rest ∷ fs) goes_on ending o s = ends_whole_does rest false p kids ending o fs s
ends_do (tree p kids rest ∷ fs) enters ending o s = ends_whole_does rest true p kids ending o fs s
ends_do (tree p kids rest ∷ fs) c ending o s = tt

owns_does : (b : Bool) (c : ℕ) (owned : Owned) (m : Master) (k : Control) (s : State) → Does s (owns_by b c owned m k s)
owns_does false c owned m k s = tt
owns_does true c owned m k s = record { older = same_things s.objects _ _ (omega arith); alive = refl; turn = refl }

joins_items_does : (c : ℕ) (k : Control) (o : ℕ) (s : State) → Does s (joins_items c k o s)
joins_items_does c (acts m k) o s = owns_does (is_above c m.items) c (declared o) m k s
joins_items_does c k o s = tt

joins_by_does : (n a c o : ℕ) (k : Control) (s : State) → Does s (joins_by n a c o k s)
joins_by_does (suc zero) a c o k s = record { older = same_things s.objects _ _ (omega arith); alive = refl; turn = refl }
joins_by_does zero a c o k s = tt
joins_by_does (suc (suc n)) a c o k s = tt

begun_does : (c : Choice) (beginning : Beginning) (o : ℕ) (s : State) → Does s (begun c beginning o s)
begun_does (joins_as c) (at_creation to_items k) o s = joins_items_does c k o s
begun_does goes_on (at_creation (to_collection a c) k) o s = joins_by_does (opens a c k) a c o k s
begun_does goes_on (at_adjustment f k) o s = record { older = same_things s.objects _ _ (omega arith); alive = refl; turn = refl }
begun_does c beginning o s = tt

begins_part_does : (b : Bool) (x : ℕ) (beginning : Beginning) (o : ℕ) (f : Forest) (js : List Job) (done : List ℕ) (s : State) → Does s (begins_part b x beginning o f js done s)
begins_part_does false x beginning o f js done s = tt
begins_part_does true x beginning o f js done s = record { older = same_things s.objects _ _ (omega arith); alive = refl; turn = refl }

begins_do : (js : List Job) (c : Choice) (beginning : Beginning) (o : ℕ) (done : List ℕ) (s : State) → Does s (begins js c beginning o done s)
begins_do [] c beginning o done s = begun_does c beginning o s
begins_do (all_in none ∷ js) goes_on beginning o done s = record { older = same_things s.objects _ _ (omega arith); alive = refl; turn = refl }
begins_do (all_in none ∷ js) c beginning o done s = tt
begins_do (all_in (tree p kids rest) ∷ js) (takes x) beginning o done s = begins_part_does (is_top x (tree p kids rest)) x beginning o (tree p kids rest) js done s
begins_do (all_in (tree p kids rest) ∷ js) c beginning o done s = tt
begins_do (call p ∷ js) goes_on beginning o done s = record { older = same_things s.objects _ _ (omega arith); turn = refl; alive = refl; turns = refl }
begins_do (call p ∷ js) enters beginning o done s = record { older = same_things s.objects _ _ (omega arith); alive = refl; turn = refl }
begins_do (call p ∷ js) c beginning o done s = tt
begins_do (called p ∷ js) goes_on beginning o done s = record { older = same_things s.objects _ _ (omega arith); turn = refl; alive = refl; turns = refl }
begins_do (called p ∷ js) c beginning o done s = tt

rolls_back_does : (done : List ℕ) (c : Choice) (n o : ℕ) (k : Control) (s : State) → Does s (rolls_back done c n o k s)
rolls_back_does [] goes_on n o k s = record { older = gone_things s.objects s.created o; alive = refl; turn = refl }
rolls_back_does [] c n o k s = tt
rolls_back_does (p ∷ done) goes_on n o k s = finalize_does (s.alive o p) false o p (undoing n) _ s refl
rolls_back_does (p ∷ done) enters n o k s = finalize_does (s.alive o p) true o p (undoing n) _ s refl
rolls_back_does (p ∷ done) c n o k s = tt

member_does : (l o : ℕ) (i : Item) (is : List Item) (m : Master) (mode : Mode) (k : Control) (s : State) → Does s (member l o i is m mode k s)
member_does zero o i is m mode k s = tt
member_does (suc n) o i is m mode k s = record { older = same_things s.objects _ _ (omega arith); alive = refl; turn = refl }

leave_owned_does : (owned : Owned) (c : Choice) (i : Item) (is : List Item) (m : Master) (mode : Mode) (k : Control) (s : State) → Does s (leave_owned owned c i is m mode k s)
leave_owned_does (declared o) goes_on i is m mode k s = record { older = same_things s.objects _ _ (omega arith); alive = refl; turn = refl }
leave_owned_does (declared o) c i is m mode k s = tt
leave_owned_does (collection []) goes_on i is m mode k s = record { older = same_things s.objects _ _ (omega arith); alive = refl; turn = refl }
leave_owned_does (collection []) c i is m mode k s = tt
leave_owned_does (collection (o ∷ os)) (takes x) i is m mode k s = member_does (in_list x (o ∷ os)) x i is m mode k s
leave_owned_does (collection (o ∷ os)) c i is m mode k s = tt

leave_does : (items : List Item) (c : Choice) (m : Master) (mode : Mode) (k : Control) (s : State) → Does s (leave items c m mode k s)
leave_does [] goes_on m mode k s = record { older = same_things s.objects _ _ (omega arith); alive = refl; turn = refl }
leave_does [] c m mode k s = tt
leave_does (i ∷ is) c m mode k s = leave_owned_does i.owned c i is m mode k s

allocates_does : (n a c : ℕ) (f : Forest) (m : Master) (k : Control) (s : State) → Does s (allocates_by n a c f m k s)
allocates_does (suc zero) a c f m k s = record { older = new_things s.objects s.created _; alive = refl; turn = refl }
allocates_does zero a c f m k s = tt
allocates_does (suc (suc n)) a c f m k s = tt

frees_does : (l a o : ℕ) (m : Master) (k : Control) (s : State) → Does s (frees_by l a o m k s)
frees_does (suc n) zero o m k s = record { older = same_things s.objects _ _ (omega arith); alive = refl; turn = refl }
frees_does zero a o m k s = tt
frees_does (suc n) (suc a) o m k s = tt

copies_does : (l a : Bool) (o : ℕ) (f : Forest) (m : Master) (k : Control) (s : State) → Does s (copies_by l a o f m k s)
copies_does true true o f m k s = record { older = same_things s.objects _ _ (omega arith); alive = refl; turn = refl }
copies_does l a o f m k s = tt

act_does : (c : Choice) (m : Master) (k : Control) (s : State) → Does s (act c m k s)
act_does goes_on m k s = tt
act_does (takes x) m k s = tt
act_does enters m k s = record { older = same_things s.objects _ _ (omega arith); alive = refl; turn = refl }
act_does finishes m k s = record { older = same_things s.objects _ _ (omega arith); alive = refl; turn = refl }
act_does raises m k s = record { older = same_things s.objects _ _ (omega arith); alive = refl; turn = refl }
act_does catches m k s = tt
act_does (declares f w) m k s = record { older = new_things s.objects s.created _; alive = refl; turn = refl }
act_does (collects c) m k s = owns_does (is_above c m.items) c (collection []) m k s
act_does (joins_as c) m k s = tt
act_does (allocates a c f w) m k s = allocates_does (opens a c (acts m k)) a c f m k s
act_does (deallocates o) m k s = frees_does (listed o (acts m k)) (assigned o (acts m k)) o m k s
act_does (copies o f w) m k s = copies_does (s.objects o).lives (all_alive (s.alive o) f) o f m k s

running_does : (c : Choice) (k : Control) (s : State) → Does s (running_step c k s)
running_does c stops s = tt
running_does c (acts m k) s = act_does c m k s
running_does c (leaves m mode k) s = leave_does m.items c m mode k s
running_does c (finalizes m i o fs mode k) s = ends_do fs c (at_leaving m i mode k) o s
running_does c (frees n o fs k) s = ends_do fs c (at_free n k) o s
running_does c (initializes o joins js done k) s = begins_do js c (at_creation joins k) o done s
running_does c (undoes n o done k) s = rolls_back_does done c n o k s
running_does c (assigns n o f fs k) s = ends_do fs c (at_assignment n f k) o s
running_does c (adjusts o f js done k) s = begins_do js c (at_adjustment f k) o done s

raising_act_does : (c : Choice) (m : Master) (k : Control) (s : State) → Does s (raising_act c m k s)
raising_act_does catches m k s = record { older = same_things s.objects _ _ (omega arith); alive = refl; turn = refl }
raising_act_does goes_on m k s = record { older = same_things s.objects _ _ (omega arith); alive = refl; turn = refl }
raising_act_does c m k s = tt

raising_does : (c : Choice) (k : Control) (s : State) → Does s (raising_step c k s)
raising_does c (acts m k) s = raising_act_does c m k s
raising_does c (initializes o joins js done k) s = record { older = same_things s.objects _ _ (omega arith); alive = refl; turn = refl }
raising_does c k s = tt

mode_does : (mode : Mode) (c : Choice) (s : State) → Does s (mode_step mode c s)
mode_does running c s = running_does c s.control s
mode_does raising c s = raising_does c s.control s

pub step_deed : (c : Choice) (s : State) (e : Event) (t : State) → step c s ≡ goes e t → Deed e s t
unfolding step
step_deed c s e t is = subst (λ (x : Outcome). Does s x) is (mode_does s.mode c s)
