-- What was initialized, newest first, is what a rollback takes.

use Rattle.std.proofs.Common.{◌≡◌, ◌≢◌, ℕ, zero, suc, ◌+◌, ◌<◌, ◌≤◌, Bool, true, false, cond, List, [], ◌∷◌, refl, sym, ap, ◌∙◌, inl, inr, subst, arith}
use Rattle.ada_storage.specs.State.{Forest, none, tree, Value, Cause, leaving, freeing, undoing, assigning, creation, Event, born, finalized, back, left, quiet, Owned, declared, collection, Item, Master, Joins, to_items, to_collection, Job, all_in, call, called, Mode, running, raising, Control, stops, acts, leaves, finalizes, frees, initializes, undoes, assigns, adjusts, State, same, bit, in_list, listed, assigned, placed, opens, parted, joined, is_top}
use Rattle.ada_storage.specs.Step.{Choice, goes_on, takes, joins_as, enters, finishes, raises, catches, declares, collects, allocates, deallocates, copies, Outcome, stuck, erroneous, goes, finalize_by, Ending, at_leaving, at_free, at_assignment, frame, ended, ends_part, ends_whole, ends, Beginning, at_creation, at_adjustment, frame_of, is_above, owns_by, joins_items, joins_by, birth_of, begun, begins_part, begins, rolls_back, member, leave_owned, leave, allocates_by, frees_by, all_alive, copies_by, act, running_step, raising_act, raising_step, mode_step, step}
use Rattle.ada_storage.specs.Law.{Births, and_then, Tail}
use Rattle.ada_storage.proofs.Invariant.{Alive, Objects, Inv}
use Rattle.ada_storage.proofs.Facts.{same_self, eq_not, eq_self, bit_le}
use Rattle.ada_storage.proofs.Keeps.{below_next}

tail_self : (xs : List ℕ) → Tail xs xs
tail_self [] = refl
tail_self (x ∷ xs) = inl refl

tail_more : (x : ℕ) (ps xs : List ℕ) → Tail (x ∷ ps) xs → Tail ps xs
tail_more x ps [] e = absurd (cc e)
tail_more x ps (y ∷ ys) (inl e) = inr (let h : ys ≡ ps = cc e in subst (λ (zs : List ℕ). Tail ps zs) (sym h) (tail_self ps))
tail_more x ps (y ∷ ys) (inr h) = inr (tail_more x ps ys h)

abbrev pub History : Births → Control → Type 0
History B stops = Unit {0}
History B (acts m k) = History B k
History B (leaves m mode k) = History B k
History B (finalizes m i o fs mode k) = History B k
History B (frees n o fs k) = History B k
History B (initializes o joins js done k) = (B o ≡ done) × History B k
History B (undoes n o done k) = Tail done (B o) × History B k
History B (assigns n o f fs k) = History B k
History B (adjusts o f js done k) = History B k

-- What a rollback takes is followed by what is left.
abbrev pub TailFrame : ℕ → Births → Control → Type 0
TailFrame p B stops = Unit {0}
TailFrame p B (acts m k) = Unit {0}
TailFrame p B (leaves m mode k) = Unit {0}
TailFrame p B (finalizes m i o fs mode k) = Unit {0}
TailFrame p B (frees n o fs k) = Unit {0}
TailFrame p B (initializes o joins js done k) = Unit {0}
TailFrame p B (undoes n o done k) = Tail (p ∷ done) (B o)
TailFrame p B (assigns n o f fs k) = Unit {0}
TailFrame p B (adjusts o f js done k) = Unit {0}

abbrev pub TailTop : ℕ → Births → Control → Type 0
TailTop p B stops = Unit {0}
TailTop p B (acts m k) = TailFrame p B k
TailTop p B (leaves m mode k) = Unit {0}
TailTop p B (finalizes m i o fs mode k) = Unit {0}
TailTop p B (frees n o fs k) = Unit {0}
TailTop p B (initializes o joins js done k) = Unit {0}
TailTop p B (undoes n o done k) = Tail (p ∷ done) (B o)
TailTop p B (assigns n o f fs k) = Unit {0}
TailTop p B (adjusts o f js done k) = Unit {0}

abbrev pub TailOf : Event → Births → Control → Type 0
TailOf (born v by) B k = Unit {0}
TailOf (finalized v cause) B k = TailTop v.part B k
TailOf (back x cause) B k = Unit {0}
TailOf (left m) B k = Unit {0}
TailOf quiet B k = Unit {0}

-- No body may have been entered.
tail_bare : (p : ℕ) (B : Births) (k : Control) → TailFrame p B k → ((m : Master) (l : Control) → k ≡ acts m l → ⊥) → TailTop p B k
tail_bare p B stops t ne = tt
tail_bare p B (acts m k) t ne = absurd (ne m k refl)
tail_bare p B (leaves m mode k) t ne = tt
tail_bare p B (finalizes m i o fs mode k) t ne = tt
tail_bare p B (frees n o fs k) t ne = tt
tail_bare p B (initializes o joins js done k) t ne = tt
tail_bare p B (undoes n o done k) t ne = t
tail_bare p B (assigns n o f fs k) t ne = tt
tail_bare p B (adjusts o f js done k) t ne = tt

pub record Passing (B : Births) (e : Event) (k : Control) (created : ℕ) : Type 0 where
  pub past : History (and_then B e) k
  pub fresh : (o : ℕ) → created ≤ o → and_then B e o ≡ []
  pub tail : TailOf e B k

hist_parted : (B : Births) (o : ℕ) (k : Control) → History B k → History B (parted o k)
hist_parted B o stops h = h
hist_parted B o (acts m k) h = hist_parted B o k h
hist_parted B o (leaves m mode k) h = hist_parted B o k h
hist_parted B o (finalizes m i x fs mode k) h = hist_parted B o k h
hist_parted B o (frees n x fs k) h = hist_parted B o k h
hist_parted B o (initializes x joins js done k) h = (h.0, hist_parted B o k h.1)
hist_parted B o (undoes n x done k) h = (h.0, hist_parted B o k h.1)
hist_parted B o (assigns n x f fs k) h = hist_parted B o k h
hist_parted B o (adjusts x f js done k) h = hist_parted B o k h

hist_joined : (B : Births) (a c o : ℕ) (k : Control) → History B k → History B (joined a c o k)
hist_joined B a c o stops h = h
hist_joined B a c o (acts m k) h = hist_joined B a c o k h
hist_joined B a c o (leaves m mode k) h = hist_joined B a c o k h
hist_joined B a c o (finalizes m i x fs mode k) h = hist_joined B a c o k h
hist_joined B a c o (frees n x fs k) h = hist_joined B a c o k h
hist_joined B a c o (initializes x joins js done k) h = (h.0, hist_joined B a c o k h.1)
hist_joined B a c o (undoes n x done k) h = (h.0, hist_joined B a c o k h.1)
hist_joined B a c o (assigns n x f fs k) h = hist_joined B a c o k h
hist_joined B a c o (adjusts x f js done k) h = hist_joined B a c o k h

birth_other : (B : Births) (v : Value) (x : ℕ) → x ≢ v.object → and_then B (born v creation) x ≡ B x
birth_other B v x ne = ap (λ b. cond b (v.part ∷ B x) (B x)) (eq_not v.object x (λ e. ne (sym e)))

hist_other : (B : Births) (v : Value) (k : Control) → placed v.object k ≡ 0 → History B k → History (and_then B (born v creation)) k
hist_other B v stops z h = h
hist_other B v (acts m k) z h = hist_other B v k (omega (arith, z)) h
hist_other B v (leaves m mode k) z h = hist_other B v k (omega (arith, z)) h
hist_other B v (finalizes m i x fs mode k) z h = hist_other B v k (omega (arith, z)) h
hist_other B v (frees n x fs k) z h = hist_other B v k (omega (arith, z)) h
hist_other B v (initializes x joins js done k) z h = (birth_other B v x (λ is. let one : same v.object x ≡ 1 = rw is (same_self v.object) in omega (arith, one, z)) ∙ h.0, hist_other B v k (omega (arith, z)) h.1)
hist_other B v (undoes n x done k) z h = (subst (λ (ps : List ℕ). Tail done ps) (sym (birth_other B v x (λ is. let one : same v.object x ≡ 1 = rw is (same_self v.object) in omega (arith, one, z)))) h.0, hist_other B v k (omega (arith, z)) h.1)
hist_other B v (assigns n x f fs k) z h = hist_other B v k z h
hist_other B v (adjusts x f js done k) z h = hist_other B v k z h

abbrev Fresh : Births → ℕ → Type 0
Fresh B n = (o : ℕ) → n ≤ o → B o ≡ []

fresh_more : (B : Births) (n : ℕ) → Fresh B n → Fresh B (suc n)
fresh_more B n f o le = f o (omega (arith, le))

abbrev Passes : Births → Outcome → Type 0
Passes B stuck = Unit {0}
Passes B erroneous = Unit {0}
Passes B (goes e t) = Passing B e t.control t.created

finalize_passes : (B : Births) (b code : Bool) (o x : ℕ) (cause : Cause) (k : Control) (s : State) → History B k → Fresh B s.created → TailFrame x B k → ((m : Master) (l : Control) → k ≡ acts m l → ⊥) → Passes B (finalize_by b code o x cause k s)
finalize_passes B false code o x cause k s p lt c ne = tt
finalize_passes B true true o x cause k s p lt c ne = record { past = p; fresh = lt; tail = c }
finalize_passes B true false o x cause k s p lt c ne = record { past = p; fresh = lt; tail = tail_bare x B k c ne }

ended_passes : (B : Births) (ending : Ending) (o : ℕ) (s : State) → History B (frame ending o []) → Fresh B s.created → Passes B (ended ending o s)
ended_passes B (at_leaving m i mode k) o s p lt = record { past = p; fresh = lt; tail = tt }
ended_passes B (at_free x k) o s p lt = record { past = p; fresh = lt; tail = tt }
ended_passes B (at_assignment x f k) o s p lt = record { past = p; fresh = lt; tail = tt }

ends_part_passes : (B : Births) (b : Bool) (x : ℕ) (ending : Ending) (o : ℕ) (f : Forest) (fs : List Forest) (s : State) → History B (frame ending o (f ∷ fs)) → Fresh B s.created → Passes B (ends_part b x ending o f fs s)
ends_part_passes B false x ending o f fs s p lt = tt
ends_part_passes B true x (at_leaving m i mode k) o f fs s p lt = record { past = p; fresh = lt; tail = tt }
ends_part_passes B true x (at_free z k) o f fs s p lt = record { past = p; fresh = lt; tail = tt }
ends_part_passes B true x (at_assignment z g k) o f fs s p lt = record { past = p; fresh = lt; tail = tt }

ends_whole_passes : (B : Births) (rest : Forest) (code : Bool) (x : ℕ) (kids : Forest) (ending : Ending) (o : ℕ) (fs : List Forest) (s : State) → History B (frame ending o (tree x kids rest ∷ fs)) → Fresh B s.created → Passes B (ends_whole rest code x kids ending o fs s)
ends_whole_passes B (tree q others rest) code x kids ending o fs s p lt = tt
ends_whole_passes B none code x kids (at_leaving m i mode k) o fs s p lt = finalize_passes B (s.alive o x) code o x (leaving m.number i) _ s p lt tt (λ n l e. cc e)
ends_whole_passes B none code x kids (at_free z k) o fs s p lt = finalize_passes B (s.alive o x) code o x (freeing z) _ s p lt tt (λ n l e. cc e)
ends_whole_passes B none code x kids (at_assignment z g k) o fs s p lt = finalize_passes B (s.alive o x) code o x (assigning z) _ s p lt tt (λ n l e. cc e)

none_passes : (B : Births) (ending : Ending) (o : ℕ) (fs : List Forest) (s : State) → History B (frame ending o (none ∷ fs)) → Fresh B s.created → Passing B quiet (frame ending o fs) s.created
none_passes B (at_leaving m i mode k) o fs s p lt = record { past = p; fresh = lt; tail = tt }
none_passes B (at_free x k) o fs s p lt = record { past = p; fresh = lt; tail = tt }
none_passes B (at_assignment x f k) o fs s p lt = record { past = p; fresh = lt; tail = tt }

ends_pass : (B : Births) (fs : List Forest) (c : Choice) (ending : Ending) (o : ℕ) (s : State) → History B (frame ending o fs) → Fresh B s.created → Passes B (ends fs c ending o s)
ends_pass B [] goes_on ending o s p lt = ended_passes B ending o s p lt
ends_pass B [] c ending o s p lt = tt
ends_pass B (none ∷ fs) goes_on ending o s p lt = none_passes B ending o fs s p lt
ends_pass B (none ∷ fs) c ending o s p lt = tt
ends_pass B (tree x kids rest ∷ fs) (takes y) ending o s p lt = ends_part_passes B (is_top y (tree x kids rest)) y ending o (tree x kids rest) fs s p lt
ends_pass B (tree x kids rest ∷ fs) goes_on ending o s p lt = ends_whole_passes B rest false x kids ending o fs s p lt
ends_pass B (tree x kids rest ∷ fs) enters ending o s p lt = ends_whole_passes B rest true x kids ending o fs s p lt
ends_pass B (tree x kids rest ∷ fs) c ending o s p lt = tt

owns_passes : (B : Births) (b : Bool) (c : ℕ) (owned : Owned) (m : Master) (k : Control) (s : State) → History B k → Fresh B s.created → Passes B (owns_by b c owned m k s)
owns_passes B false c owned m k s p lt = tt
owns_passes B true c owned m k s p lt = record { past = p; fresh = lt; tail = tt }

joins_items_passes : (B : Births) (c : ℕ) (k : Control) (o : ℕ) (s : State) → History B k → Fresh B s.created → Passes B (joins_items c k o s)
joins_items_passes B c (acts m k) o s p lt = owns_passes B (is_above c m.items) c (declared o) m k s p lt
joins_items_passes B c k o s p lt = tt

joins_by_passes : (B : Births) (z b c o : ℕ) (k : Control) (s : State) → History B k → Fresh B s.created → Passes B (joins_by z b c o k s)
joins_by_passes B (suc zero) b c o k s p lt = record { past = hist_joined B b c o k p; fresh = lt; tail = tt }
joins_by_passes B zero b c o k s p lt = tt
joins_by_passes B (suc (suc z)) b c o k s p lt = tt

begun_passes : (B : Births) (c : Choice) (beginning : Beginning) (o : ℕ) (done : List ℕ) (s : State) → History B (frame_of beginning o [] done) → Fresh B s.created → Passes B (begun c beginning o s)
begun_passes B (joins_as c) (at_creation to_items k) o done s p lt = joins_items_passes B c k o s p.1 lt
begun_passes B goes_on (at_creation (to_collection b c) k) o done s p lt = joins_by_passes B (opens b c k) b c o k s p.1 lt
begun_passes B goes_on (at_adjustment f k) o done s p lt = record { past = p; fresh = lt; tail = tt }
begun_passes B c beginning o done s p lt = tt

-- What is left of a beginning doesn't matter.
any : (B : Births) (beginning : Beginning) (o : ℕ) (js ks : List Job) (done : List ℕ) → History B (frame_of beginning o js done) → History B (frame_of beginning o ks done)
any B (at_creation joins k) o js ks done p = p
any B (at_adjustment f k) o js ks done p = p

begins_part_passes : (B : Births) (b : Bool) (x : ℕ) (beginning : Beginning) (o : ℕ) (f : Forest) (js : List Job) (done : List ℕ) (s : State) → History B (frame_of beginning o js done) → Fresh B s.created → Passes B (begins_part b x beginning o f js done s)
begins_part_passes B false x beginning o f js done s p lt = tt
begins_part_passes B true x beginning o f js done s p lt = record { past = any B beginning o js _ done p; fresh = lt; tail = tt }

-- Only one frame initializes an object.
abbrev Lone : Beginning → ℕ → ℕ → Type 0
Lone (at_creation joins k) o n = (placed o k ≡ 0) × (o < n)
Lone (at_adjustment f k) o n = Unit {0}

born_passes : (B : Births) (beginning : Beginning) (o x : ℕ) (js : List Job) (done : List ℕ) (s : State) → Lone beginning o s.created → History B (frame_of beginning o (called x ∷ js) done) → Fresh B s.created → Passing B (born (record { object = o; part = x; turn = s.turn o x }) (birth_of beginning)) (frame_of beginning o js (x ∷ done)) s.created
born_passes B (at_creation joins k) o x js done s lone p lt =
    let v : Value = record { object = o; part = x; turn = s.turn o x } in
    record {
      past = (ap (λ b. cond b (x ∷ B o) (B o)) (eq_self o) ∙ ap (λ (ps : List ℕ). x ∷ ps) p.0, hist_other B v k lone.0 p.1);
      fresh = λ y le. birth_other B v y (λ e. let l = lone.1 in omega (arith, l, e, le)) ∙ lt y le;
      tail = tt;
    }
born_passes B (at_adjustment f k) o x js done s lone p lt = record { past = p; fresh = lt; tail = tt }

begins_pass : (B : Births) (js : List Job) (c : Choice) (beginning : Beginning) (o : ℕ) (done : List ℕ) (s : State) → Lone beginning o s.created → History B (frame_of beginning o js done) → Fresh B s.created → Passes B (begins js c beginning o done s)
begins_pass B [] c beginning o done s lone p lt = begun_passes B c beginning o done s p lt
begins_pass B (all_in none ∷ js) goes_on beginning o done s lone p lt = record { past = any B beginning o (all_in none ∷ js) js done p; fresh = lt; tail = tt }
begins_pass B (all_in none ∷ js) c beginning o done s lone p lt = tt
begins_pass B (all_in (tree x kids rest) ∷ js) (takes y) beginning o done s lone p lt = begins_part_passes B (is_top y (tree x kids rest)) y beginning o (tree x kids rest) js done s (any B beginning o (all_in (tree x kids rest) ∷ js) js done p) lt
begins_pass B (all_in (tree x kids rest) ∷ js) c beginning o done s lone p lt = tt
begins_pass B (call x ∷ js) goes_on beginning o done s lone p lt = born_passes B beginning o x js done s lone (any B beginning o (call x ∷ js) (called x ∷ js) done p) lt
begins_pass B (call x ∷ js) enters beginning o done s lone p lt = record { past = any B beginning o (call x ∷ js) (called x ∷ js) done p; fresh = lt; tail = tt }
begins_pass B (call x ∷ js) c beginning o done s lone p lt = tt
begins_pass B (called x ∷ js) goes_on beginning o done s lone p lt = born_passes B beginning o x js done s lone p lt
begins_pass B (called x ∷ js) c beginning o done s lone p lt = tt

rolls_back_passes : (B : Births) (done : List ℕ) (c : Choice) (z o : ℕ) (k : Control) (s : State) → History B (undoes z o done k) → Fresh B s.created → Passes B (rolls_back done c z o k s)
rolls_back_passes B [] goes_on z o k s p lt = record { past = p.1; fresh = lt; tail = tt }
rolls_back_passes B [] c z o k s p lt = tt
rolls_back_passes B (x ∷ done) goes_on z o k s p lt = finalize_passes B (s.alive o x) false o x (undoing z) _ s (tail_more x done (B o) p.0, p.1) lt p.0 (λ n l e. cc e)
rolls_back_passes B (x ∷ done) enters z o k s p lt = finalize_passes B (s.alive o x) true o x (undoing z) _ s (tail_more x done (B o) p.0, p.1) lt p.0 (λ n l e. cc e)
rolls_back_passes B (x ∷ done) c z o k s p lt = tt

member_passes : (B : Births) (l o b : ℕ) (owned : Owned) (is : List Item) (z : ℕ) (mode : Mode) (k : Control) (s : State) → History B (leaves (record { number = z; items = record { number = b; owned = owned } ∷ is }) mode k) → Fresh B s.created → Passes B (member l o (record { number = b; owned = owned }) is (record { number = z; items = record { number = b; owned = owned } ∷ is }) mode k s)
member_passes B zero o b owned is z mode k s p lt = tt
member_passes B (suc l) o b owned is z mode k s p lt = record { past = hist_parted B o k p; fresh = lt; tail = tt }

leave_owned_passes : (B : Births) (owned : Owned) (c : Choice) (b : ℕ) (is : List Item) (z : ℕ) (mode : Mode) (k : Control) (s : State) → History B (leaves (record { number = z; items = record { number = b; owned = owned } ∷ is }) mode k) → Fresh B s.created → Passes B (leave_owned owned c (record { number = b; owned = owned }) is (record { number = z; items = record { number = b; owned = owned } ∷ is }) mode k s)
leave_owned_passes B (declared o) goes_on b is z mode k s p lt = record { past = p; fresh = lt; tail = tt }
leave_owned_passes B (declared o) c b is z mode k s p lt = tt
leave_owned_passes B (collection []) goes_on b is z mode k s p lt = record { past = p; fresh = lt; tail = tt }
leave_owned_passes B (collection []) c b is z mode k s p lt = tt
leave_owned_passes B (collection (o ∷ os)) (takes x) b is z mode k s p lt = member_passes B (in_list x (o ∷ os)) x b (collection (o ∷ os)) is z mode k s p lt
leave_owned_passes B (collection (o ∷ os)) c b is z mode k s p lt = tt

leave_passes : (B : Births) (items : List Item) (c : Choice) (z : ℕ) (mode : Mode) (k : Control) (s : State) → History B (leaves (record { number = z; items = items }) mode k) → Fresh B s.created → Passes B (leave items c (record { number = z; items = items }) mode k s)
leave_passes B [] goes_on z mode k s p lt = record { past = p; fresh = lt; tail = tt }
leave_passes B [] c z mode k s p lt = tt
leave_passes B (i ∷ is) c z mode k s p lt = leave_owned_passes B i.owned c i.number is z mode k s p lt

allocates_passes : (B : Births) (l b c : ℕ) (f : Forest) (m : Master) (k : Control) (s : State) → History B (acts m k) → Fresh B s.created → Passes B (allocates_by l b c f m k s)
allocates_passes B (suc zero) b c f m k s p lt = record { past = (lt s.created (omega arith), p); fresh = fresh_more B s.created lt; tail = tt }
allocates_passes B zero b c f m k s p lt = tt
allocates_passes B (suc (suc l)) b c f m k s p lt = tt

frees_passes : (B : Births) (l z o : ℕ) (m : Master) (k : Control) (s : State) → History B (acts m k) → Fresh B s.created → Passes B (frees_by l z o m k s)
frees_passes B (suc l) zero o m k s p lt = record { past = hist_parted B o (acts m k) p; fresh = lt; tail = tt }
frees_passes B zero z o m k s p lt = tt
frees_passes B (suc l) (suc z) o m k s p lt = tt

copies_passes : (B : Births) (l z : Bool) (o : ℕ) (f : Forest) (m : Master) (k : Control) (s : State) → History B (acts m k) → Fresh B s.created → Passes B (copies_by l z o f m k s)
copies_passes B true true o f m k s p lt = record { past = p; fresh = lt; tail = tt }
copies_passes B true false o f m k s p lt = tt
copies_passes B false z o f m k s p lt = tt

act_passes : (B : Births) (c : Choice) (m : Master) (k : Control) (s : State) → History B (acts m k) → Fresh B s.created → Passes B (act c m k s)
act_passes B goes_on m k s p lt = tt
act_passes B (takes x) m k s p lt = tt
act_passes B enters m k s p lt = record { past = p; fresh = lt; tail = tt }
act_passes B finishes m k s p lt = record { past = p; fresh = lt; tail = tt }
act_passes B raises m k s p lt = record { past = p; fresh = lt; tail = tt }
act_passes B catches m k s p lt = tt
act_passes B (declares f w) m k s p lt = record { past = (lt s.created (omega arith), p); fresh = fresh_more B s.created lt; tail = tt }
act_passes B (collects c) m k s p lt = owns_passes B (is_above c m.items) c (collection []) m k s p lt
act_passes B (joins_as c) m k s p lt = tt
act_passes B (allocates b c f w) m k s p lt = allocates_passes B (opens b c (acts m k)) b c f m k s p lt
act_passes B (deallocates o) m k s p lt = frees_passes B (listed o (acts m k)) (assigned o (acts m k)) o m k s p lt
act_passes B (copies o f w) m k s p lt = copies_passes B (s.objects o).lives (all_alive (s.alive o) f) o f m k s p lt

only : (b : Bool) (o n : ℕ) → same o o + n ≡ bit b → n ≡ 0
only b o n e = let one = same_self o in let le = bit_le b in omega (arith, one, le, e)

lt_of : {A : Alive} {T : Objects} {k : Control} {joins : Joins} {js : List Job} {done : List ℕ} {c n : ℕ} (o : ℕ) → Inv A T (initializes o joins js done k) c n → o < c
lt_of o inv = below_next o inv (let one = same_self o in omega (arith, one))

running_passes : (B : Births) (c : Choice) (k : Control) (s : State) → Inv s.alive s.objects k s.created s.next → History B k → Fresh B s.created → Passes B (running_step c k s)
running_passes B c stops s inv p lt = tt
running_passes B c (acts m k) s inv p lt = act_passes B c m k s p lt
running_passes B c (leaves m mode k) s inv p lt = leave_passes B m.items c m.number mode k s p lt
running_passes B c (finalizes m i o fs mode k) s inv p lt = ends_pass B fs c (at_leaving m i mode k) o s p lt
running_passes B c (frees x o fs k) s inv p lt = ends_pass B fs c (at_free x k) o s p lt
running_passes B c (initializes o joins js done k) s inv p lt = begins_pass B js c (at_creation joins k) o done s (only (s.objects o).lives o (placed o k) (inv.places o), lt_of o inv) p lt
running_passes B c (undoes x o done k) s inv p lt = rolls_back_passes B done c x o k s p lt
running_passes B c (assigns x o f fs k) s inv p lt = ends_pass B fs c (at_assignment x f k) o s p lt
running_passes B c (adjusts o f js done k) s inv p lt = begins_pass B js c (at_adjustment f k) o done s tt p lt

raising_act_passes : (B : Births) (c : Choice) (m : Master) (k : Control) (s : State) → History B (acts m k) → Fresh B s.created → Passes B (raising_act c m k s)
raising_act_passes B catches m k s p lt = record { past = p; fresh = lt; tail = tt }
raising_act_passes B goes_on m k s p lt = record { past = p; fresh = lt; tail = tt }
raising_act_passes B c m k s p lt = tt

raising_passes : (B : Births) (c : Choice) (k : Control) (s : State) → History B k → Fresh B s.created → Passes B (raising_step c k s)
raising_passes B c (acts m k) s p lt = raising_act_passes B c m k s p lt
raising_passes B c (initializes o joins js done k) s p lt = record { past = (subst (λ (ps : List ℕ). Tail done ps) (sym p.0) (tail_self done), p.1); fresh = lt; tail = tt }
raising_passes B c k s p lt = tt

mode_passes : (B : Births) (mode : Mode) (c : Choice) (s : State) → Inv s.alive s.objects s.control s.created s.next → History B s.control → Fresh B s.created → Passes B (mode_step mode c s)
mode_passes B running c s inv p lt = running_passes B c s.control s inv p lt
mode_passes B raising c s inv p lt = raising_passes B c s.control s p lt

pub step_passes : (B : Births) (c : Choice) (s : State) (e : Event) (t : State) → Inv s.alive s.objects s.control s.created s.next → History B s.control → Fresh B s.created → step c s ≡ goes e t → Passing B e t.control t.created
unfolding step
step_passes B c s e t inv p lt is = subst (Passes B) is (mode_passes B s.mode c s inv p lt)
