-- What is left of one finalization of an object never grows.

use Rattle.std.proofs.Common.{◌≡◌, ◌≢◌, ℕ, zero, suc, ◌+◌, ◌<◌, Bool, true, false, cond, List, [], ◌∷◌, map, refl, sym, ap, ◌∙◌, inl, inr, subst, arith}
use Rattle.std.proofs.lemmas.Bool.Decides.{eqb_tells}
use Rattle.ada_storage.specs.State.{Forest, none, tree, Cause, leaving, freeing, undoing, assigning, Event, quiet, Owned, declared, collection, Item, Master, to_items, to_collection, Job, all_in, call, called, Mode, running, raising, Control, stops, acts, leaves, finalizes, frees, initializes, undoes, assigns, adjusts, State, same, in_list, in_forests, in_owned, in_items, listed, assigned, placed, opens, master_open, parted, parted_item, joined, joined_master, is_top, kids_of, others_of}
use Rattle.ada_storage.specs.Step.{Choice, goes_on, takes, joins_as, enters, finishes, raises, catches, declares, collects, allocates, deallocates, copies, Outcome, stuck, erroneous, goes, finalize_by, Ending, at_leaving, at_free, at_assignment, frame, ended, ends_part, ends_whole, ends, Beginning, at_creation, at_adjustment, frame_of, is_above, owns_by, joins_items, joins_by, begun, begins_part, begins, rolls_back, member, leave_owned, leave, allocates_by, frees_by, all_alive, copies_by, act, running_step, raising_act, raising_step, mode_step, step}
use Rattle.ada_storage.proofs.Invariant.{Alive, Objects, after, Fits}
use Rattle.ada_storage.specs.Law.{LaterOf}
use Rattle.ada_storage.proofs.Facts.{same_self, same_other, eq_not}
use Rattle.ada_storage.proofs.Stack.{items_parted, items_self}
use Rattle.ada_storage.proofs.Joining.{master_joined}
use Rattle.ada_storage.proofs.Keeps.{split_counts}

-- A leaving is a cause for several objects.
abbrev pub Keyed : Cause → Type 0
Keyed (leaving m i) = Unit {0}
Keyed (freeing n) = ⊥
Keyed (undoing n) = ⊥
Keyed (assigning n) = ⊥

abbrev pub Old : Cause → ℕ → Type 0
Old (leaving m i) next = Unit {0}
Old (freeing n) next = n < next
Old (undoing n) next = n < next
Old (assigning n) next = n < next

-- Each frame of this cause on this object has only such parts left.
abbrev pub Rest : Cause → ℕ → (ℕ → Type 0) → Control → Type 0
Rest c o P stops = Unit {0}
Rest c o P (acts m k) = (Keyed c → in_items o m.items ≡ 0) × Rest c o P k
Rest c o P (leaves m mode k) = (Keyed c → in_items o m.items ≡ 0) × Rest c o P k
Rest c o P (finalizes m i x fs mode k) = (leaving m.number i ≡ c → x ≡ o → (q : ℕ) → 0 < in_forests q fs → P q) × (Keyed c → in_items o m.items ≡ 0) × Rest c o P k
Rest c o P (frees n x fs k) = (freeing n ≡ c → x ≡ o → (q : ℕ) → 0 < in_forests q fs → P q) × Rest c o P k
Rest c o P (initializes x joins js done k) = (Keyed c → x ≢ o) × Rest c o P k
Rest c o P (undoes n x done k) = (undoing n ≡ c → x ≡ o → (q : ℕ) → 0 < in_list q done → P q) × Rest c o P k
Rest c o P (assigns n x f fs k) = (assigning n ≡ c → x ≡ o → (q : ℕ) → 0 < in_forests q fs → P q) × Rest c o P k
Rest c o P (adjusts x f js done k) = Rest c o P k

pub record Passing (c : Cause) (o : ℕ) (P : ℕ → Type 0) (e : Event) (k : Control) (created next : ℕ) : Type 0 where
  pub past : Rest c o P k
  pub lt : Old c next
  pub le : o < created
  pub below : LaterOf c o P e

old_more : (c : Cause) (n : ℕ) → Old c n → Old c (suc n)
old_more (leaving m i) n h = tt
old_more (freeing x) n h = omega (arith, h)
old_more (undoing x) n h = omega (arith, h)
old_more (assigning x) n h = omega (arith, h)

not_freeing : (c : Cause) (n : ℕ) → Old c n → freeing n ≡ c → ⊥
not_freeing c n h e = let g : Old (freeing n) n = subst (λ (d : Cause). Old d n) (sym e) h in omega (arith, g)

not_undoing : (c : Cause) (n : ℕ) → Old c n → undoing n ≡ c → ⊥
not_undoing c n h e = let g : Old (undoing n) n = subst (λ (d : Cause). Old d n) (sym e) h in omega (arith, g)

not_assigning : (c : Cause) (n : ℕ) → Old c n → assigning n ≡ c → ⊥
not_assigning c n h e = let g : Old (assigning n) n = subst (λ (d : Cause). Old d n) (sym e) h in omega (arith, g)

keyed : (m i : ℕ) (c : Cause) → leaving m i ≡ c → Keyed c
keyed m i c e = subst Keyed e tt

items_out : (x o : ℕ) (is : List Item) → in_items o is ≡ 0 → in_items o (map (parted_item x) is) ≡ 0
items_out x o is z = elim (eqb_tells o x) [ inl h ↦ subst (λ (y : ℕ). in_items o (map (parted_item y) is) ≡ 0) h.1 (let e = items_self o is in omega (arith, e, z)) | inr h ↦ items_parted x o is h.1 ∙ z ]

rest_parted : (c : Cause) (o : ℕ) (P : ℕ → Type 0) (x : ℕ) (k : Control) → Rest c o P k → Rest c o P (parted x k)
rest_parted c o P x stops r = tt
rest_parted c o P x (acts m k) r = (λ h. items_out x o m.items (r.0 h), rest_parted c o P x k r.1)
rest_parted c o P x (leaves m mode k) r = (λ h. items_out x o m.items (r.0 h), rest_parted c o P x k r.1)
rest_parted c o P x (finalizes m i y fs mode k) r = (r.0, λ h. items_out x o m.items (r.1 h), rest_parted c o P x k r.2)
rest_parted c o P x (frees n y fs k) r = (r.0, rest_parted c o P x k r.1)
rest_parted c o P x (initializes y joins js done k) r = (r.0, rest_parted c o P x k r.1)
rest_parted c o P x (undoes n y done k) r = (r.0, rest_parted c o P x k r.1)
rest_parted c o P x (assigns n y f fs k) r = (r.0, rest_parted c o P x k r.1)
rest_parted c o P x (adjusts y f js done k) r = rest_parted c o P x k r

items_stay : (a d x o : ℕ) (m : Master) → x ≢ o → in_items o m.items ≡ 0 → in_items o (joined_master a d x m).items ≡ 0
items_stay a d x o m ne z = let e = master_joined a d x o m in let g = ap (λ b. cond b (master_open a d m) 0) (eq_not o x (λ h. ne (sym h))) in omega (arith, e, g, z)

rest_joined : (c : Cause) (o : ℕ) (P : ℕ → Type 0) (a d x : ℕ) (k : Control) → (Keyed c → x ≢ o) → Rest c o P k → Rest c o P (joined a d x k)
rest_joined c o P a d x stops ne r = tt
rest_joined c o P a d x (acts m k) ne r = (λ h. items_stay a d x o m (ne h) (r.0 h), rest_joined c o P a d x k ne r.1)
rest_joined c o P a d x (leaves m mode k) ne r = (λ h. items_stay a d x o m (ne h) (r.0 h), rest_joined c o P a d x k ne r.1)
rest_joined c o P a d x (finalizes m i y fs mode k) ne r = (r.0, λ h. items_stay a d x o m (ne h) (r.1 h), rest_joined c o P a d x k ne r.2)
rest_joined c o P a d x (frees n y fs k) ne r = (r.0, rest_joined c o P a d x k ne r.1)
rest_joined c o P a d x (initializes y joins js done k) ne r = (r.0, rest_joined c o P a d x k ne r.1)
rest_joined c o P a d x (undoes n y done k) ne r = (r.0, rest_joined c o P a d x k ne r.1)
rest_joined c o P a d x (assigns n y f fs k) ne r = (r.0, rest_joined c o P a d x k ne r.1)
rest_joined c o P a d x (adjusts y f js done k) ne r = rest_joined c o P a d x k ne r

-- Below a frame that holds an object alone nothing else is of it.
pub rest_alone : (A : Alive) (T : Objects) (c : Cause) (o : ℕ) (P : ℕ → Type 0) (k : Control) → placed o k ≡ 0 → Fits A T k → Rest c o P k
rest_alone A T c o P stops z f = tt
rest_alone A T c o P (acts m k) z f = (λ h. omega (arith, z), rest_alone A T c o P k (omega (arith, z)) f.2)
rest_alone A T c o P (leaves m mode k) z f = (λ h. omega (arith, z), rest_alone A T c o P k (omega (arith, z)) f.2)
rest_alone A T c o P (finalizes m i x fs mode k) z f = (λ e is. absurd (let one : same o x ≡ 1 = rw is (same_self o) in omega (arith, one, z)), λ h. omega (arith, z), rest_alone A T c o P k (omega (arith, z)) f.2.2)
rest_alone A T c o P (frees n x fs k) z f = (λ e is. absurd (let one : same o x ≡ 1 = rw is (same_self o) in omega (arith, one, z)), rest_alone A T c o P k (omega (arith, z)) f.2)
rest_alone A T c o P (initializes x joins js done k) z f = (λ h is. let one : same o x ≡ 1 = rw is (same_self o) in omega (arith, one, z), rest_alone A T c o P k (omega (arith, z)) f.4)
rest_alone A T c o P (undoes n x done k) z f = (λ e is. absurd (let one : same o x ≡ 1 = rw is (same_self o) in omega (arith, one, z)), rest_alone A T c o P k (omega (arith, z)) f.2)
rest_alone A T c o P (assigns n x f' fs k) z f = (λ e is. absurd (let h = subst (λ (y : ℕ). 0 < placed y k) is f.3 in omega (arith, h, z)), rest_alone (after A x f') T c o P k z f.4)
rest_alone A T c o P (adjusts x f' js done k) z f = rest_alone (after A x f') T c o P k z f.4

split_less : (x : ℕ) (f : Forest) (fs : List Forest) (q : ℕ) → is_top x f ≡ true → 0 < in_forests q (tree x (kids_of x f) none ∷ others_of x f ∷ fs) → 0 < in_forests q (f ∷ fs)
split_less x f fs q e pos = let h = split_counts x f fs q e in omega (arith, h, pos)

whole_less : (x : ℕ) (kids : Forest) (fs : List Forest) (q : ℕ) → 0 < in_forests q (kids ∷ fs) → 0 < in_forests q (tree x kids none ∷ fs)
whole_less x kids fs q pos = omega (arith, pos)

whole_part : (x : ℕ) (kids : Forest) (fs : List Forest) → 0 < in_forests x (tree x kids none ∷ fs)
whole_part x kids fs = let one = same_self x in omega (arith, one)

abbrev Passes : Cause → ℕ → (ℕ → Type 0) → Outcome → Type 0
Passes c0 o0 P stuck = Unit {0}
Passes c0 o0 P erroneous = Unit {0}
Passes c0 o0 P (goes e t) = Passing c0 o0 P e t.control t.created t.next

finalize_passes : (c0 : Cause) (o0 : ℕ) (P : ℕ → Type 0) (b code : Bool) (o x : ℕ) (cause : Cause) (k : Control) (s : State) → Rest c0 o0 P k → Old c0 s.next → o0 < s.created → (cause ≡ c0 → o ≡ o0 → P x) → Passes c0 o0 P (finalize_by b code o x cause k s)
finalize_passes c0 o0 P false code o x cause k s p lt le c = tt
finalize_passes c0 o0 P true false o x cause k s p lt le c = record { past = p; lt = lt; le = le; below = c }
finalize_passes c0 o0 P true true o x cause k s p lt le c = record { past = (λ h. refl, p); lt = old_more c0 s.next lt; le = le; below = c }

ended_passes : (c0 : Cause) (o0 : ℕ) (P : ℕ → Type 0) (ending : Ending) (o : ℕ) (s : State) → Rest c0 o0 P (frame ending o []) → Old c0 s.next → o0 < s.created → Passes c0 o0 P (ended ending o s)
ended_passes c0 o0 P (at_leaving m i mode k) o s p lt le = record { past = (p.1, p.2); lt = lt; le = le; below = tt }
ended_passes c0 o0 P (at_free x k) o s p lt le = record { past = p.1; lt = lt; le = le; below = tt }
ended_passes c0 o0 P (at_assignment x f k) o s p lt le = record { past = p.1; lt = lt; le = le; below = tt }

ends_part_passes : (c0 : Cause) (o0 : ℕ) (P : ℕ → Type 0) (b : Bool) (x : ℕ) (ending : Ending) (o : ℕ) (f : Forest) (fs : List Forest) (s : State) → is_top x f ≡ b → Rest c0 o0 P (frame ending o (f ∷ fs)) → Old c0 s.next → o0 < s.created → Passes c0 o0 P (ends_part b x ending o f fs s)
ends_part_passes c0 o0 P false x ending o f fs s e p lt le = tt
ends_part_passes c0 o0 P true x (at_leaving m i mode k) o f fs s e p lt le = record { past = ((λ h is q pos. p.0 h is q (split_less x f fs q e pos)), p.1, p.2); lt = lt; le = le; below = tt }
ends_part_passes c0 o0 P true x (at_free z k) o f fs s e p lt le = record { past = ((λ h is q pos. p.0 h is q (split_less x f fs q e pos)), p.1); lt = lt; le = le; below = tt }
ends_part_passes c0 o0 P true x (at_assignment z g k) o f fs s e p lt le = record { past = ((λ h is q pos. p.0 h is q (split_less x f fs q e pos)), p.1); lt = lt; le = le; below = tt }

ends_whole_passes : (c0 : Cause) (o0 : ℕ) (P : ℕ → Type 0) (rest : Forest) (code : Bool) (x : ℕ) (kids : Forest) (ending : Ending) (o : ℕ) (fs : List Forest) (s : State) → Rest c0 o0 P (frame ending o (tree x kids rest ∷ fs)) → Old c0 s.next → o0 < s.created → Passes c0 o0 P (ends_whole rest code x kids ending o fs s)
ends_whole_passes c0 o0 P (tree q others rest) code x kids ending o fs s p lt le = tt
ends_whole_passes c0 o0 P none code x kids (at_leaving m i mode k) o fs s p lt le = finalize_passes c0 o0 P (s.alive o x) code o x (leaving m.number i) _ s ((λ h is q pos. p.0 h is q (whole_less x kids fs q pos)), p.1, p.2) lt le (λ h is. p.0 h is x (whole_part x kids fs))
ends_whole_passes c0 o0 P none code x kids (at_free z k) o fs s p lt le = finalize_passes c0 o0 P (s.alive o x) code o x (freeing z) _ s ((λ h is q pos. p.0 h is q (whole_less x kids fs q pos)), p.1) lt le (λ h is. p.0 h is x (whole_part x kids fs))
ends_whole_passes c0 o0 P none code x kids (at_assignment z g k) o fs s p lt le = finalize_passes c0 o0 P (s.alive o x) code o x (assigning z) _ s ((λ h is q pos. p.0 h is q (whole_less x kids fs q pos)), p.1) lt le (λ h is. p.0 h is x (whole_part x kids fs))

none_passes : (c0 : Cause) (o0 : ℕ) (P : ℕ → Type 0) (ending : Ending) (o : ℕ) (fs : List Forest) (s : State) → Rest c0 o0 P (frame ending o (none ∷ fs)) → Old c0 s.next → o0 < s.created → Passing c0 o0 P quiet (frame ending o fs) s.created s.next
none_passes c0 o0 P (at_leaving m i mode k) o fs s p lt le = record { past = (λ h is q pos. p.0 h is q (omega (arith, pos)), p.1, p.2); lt = lt; le = le; below = tt }
none_passes c0 o0 P (at_free x k) o fs s p lt le = record { past = (λ h is q pos. p.0 h is q (omega (arith, pos)), p.1); lt = lt; le = le; below = tt }
none_passes c0 o0 P (at_assignment x f k) o fs s p lt le = record { past = (λ h is q pos. p.0 h is q (omega (arith, pos)), p.1); lt = lt; le = le; below = tt }

ends_pass : (c0 : Cause) (o0 : ℕ) (P : ℕ → Type 0) (fs : List Forest) (c : Choice) (ending : Ending) (o : ℕ) (s : State) → Rest c0 o0 P (frame ending o fs) → Old c0 s.next → o0 < s.created → Passes c0 o0 P (ends fs c ending o s)
ends_pass c0 o0 P [] goes_on ending o s p lt le = ended_passes c0 o0 P ending o s p lt le
ends_pass c0 o0 P [] c ending o s p lt le = tt
ends_pass c0 o0 P (none ∷ fs) goes_on ending o s p lt le = none_passes c0 o0 P ending o fs s p lt le
ends_pass c0 o0 P (none ∷ fs) c ending o s p lt le = tt
ends_pass c0 o0 P (tree x kids rest ∷ fs) (takes y) ending o s p lt le = ends_part_passes c0 o0 P (is_top y (tree x kids rest)) y ending o (tree x kids rest) fs s refl p lt le
ends_pass c0 o0 P (tree x kids rest ∷ fs) goes_on ending o s p lt le = ends_whole_passes c0 o0 P rest false x kids ending o fs s p lt le
ends_pass c0 o0 P (tree x kids rest ∷ fs) enters ending o s p lt le = ends_whole_passes c0 o0 P rest true x kids ending o fs s p lt le
ends_pass c0 o0 P (tree x kids rest ∷ fs) c ending o s p lt le = tt

owns_passes : (c0 : Cause) (o0 : ℕ) (P : ℕ → Type 0) (b : Bool) (c : ℕ) (owned : Owned) (m : Master) (k : Control) (s : State) → (Keyed c0 → in_owned o0 owned ≡ 0) → Rest c0 o0 P (acts m k) → Old c0 s.next → o0 < s.created → Passes c0 o0 P (owns_by b c owned m k s)
owns_passes c0 o0 P false c owned m k s ne p lt le = tt
owns_passes c0 o0 P true c owned m k s ne p lt le = record { past = (λ h. let z = p.0 h in let g = ne h in omega (arith, z, g), p.1); lt = lt; le = le; below = tt }

joins_items_passes : (c0 : Cause) (o0 : ℕ) (P : ℕ → Type 0) (c : ℕ) (k : Control) (o : ℕ) (s : State) → (Keyed c0 → o ≢ o0) → Rest c0 o0 P k → Old c0 s.next → o0 < s.created → Passes c0 o0 P (joins_items c k o s)
joins_items_passes c0 o0 P c (acts m k) o s ne p lt le = owns_passes c0 o0 P (is_above c m.items) c (declared o) m k s (λ h. same_other o0 o (λ e. ne h (sym e))) p lt le
joins_items_passes c0 o0 P c k o s ne p lt le = tt

joins_by_passes : (c0 : Cause) (o0 : ℕ) (P : ℕ → Type 0) (z b c o : ℕ) (k : Control) (s : State) → (Keyed c0 → o ≢ o0) → Rest c0 o0 P k → Old c0 s.next → o0 < s.created → Passes c0 o0 P (joins_by z b c o k s)
joins_by_passes c0 o0 P (suc zero) b c o k s ne p lt le = record { past = rest_joined c0 o0 P b c o k ne p; lt = lt; le = le; below = tt }
joins_by_passes c0 o0 P zero b c o k s ne p lt le = tt
joins_by_passes c0 o0 P (suc (suc z)) b c o k s ne p lt le = tt

begun_passes : (c0 : Cause) (o0 : ℕ) (P : ℕ → Type 0) (c : Choice) (beginning : Beginning) (o : ℕ) (s : State) → Rest c0 o0 P (frame_of beginning o [] []) → Old c0 s.next → o0 < s.created → Passes c0 o0 P (begun c beginning o s)
begun_passes c0 o0 P (joins_as c) (at_creation to_items k) o s p lt le = joins_items_passes c0 o0 P c k o s p.0 p.1 lt le
begun_passes c0 o0 P goes_on (at_creation (to_collection b c) k) o s p lt le = joins_by_passes c0 o0 P (opens b c k) b c o k s p.0 p.1 lt le
begun_passes c0 o0 P goes_on (at_adjustment f k) o s p lt le = record { past = p; lt = lt; le = le; below = tt }
begun_passes c0 o0 P c beginning o s p lt le = tt

-- What a beginning's frame holds doesn't matter.
any : (c0 : Cause) (o0 : ℕ) (P : ℕ → Type 0) (beginning : Beginning) (o : ℕ) (js ks : List Job) (done other : List ℕ) → Rest c0 o0 P (frame_of beginning o js done) → Rest c0 o0 P (frame_of beginning o ks other)
any c0 o0 P (at_creation joins k) o js ks done other p = p
any c0 o0 P (at_adjustment f k) o js ks done other p = p

begins_part_passes : (c0 : Cause) (o0 : ℕ) (P : ℕ → Type 0) (b : Bool) (x : ℕ) (beginning : Beginning) (o : ℕ) (f : Forest) (js : List Job) (done : List ℕ) (s : State) → Rest c0 o0 P (frame_of beginning o [] []) → Old c0 s.next → o0 < s.created → Passes c0 o0 P (begins_part b x beginning o f js done s)
begins_part_passes c0 o0 P false x beginning o f js done s p lt le = tt
begins_part_passes c0 o0 P true x beginning o f js done s p lt le = record { past = any c0 o0 P beginning o [] _ [] done p; lt = lt; le = le; below = tt }

begins_pass : (c0 : Cause) (o0 : ℕ) (P : ℕ → Type 0) (js : List Job) (c : Choice) (beginning : Beginning) (o : ℕ) (done : List ℕ) (s : State) → Rest c0 o0 P (frame_of beginning o [] []) → Old c0 s.next → o0 < s.created → Passes c0 o0 P (begins js c beginning o done s)
begins_pass c0 o0 P [] c beginning o done s p lt le = begun_passes c0 o0 P c beginning o s p lt le
begins_pass c0 o0 P (all_in none ∷ js) goes_on beginning o done s p lt le = record { past = any c0 o0 P beginning o [] js [] done p; lt = lt; le = le; below = tt }
begins_pass c0 o0 P (all_in none ∷ js) c beginning o done s p lt le = tt
begins_pass c0 o0 P (all_in (tree x kids rest) ∷ js) (takes y) beginning o done s p lt le = begins_part_passes c0 o0 P (is_top y (tree x kids rest)) y beginning o (tree x kids rest) js done s p lt le
begins_pass c0 o0 P (all_in (tree x kids rest) ∷ js) c beginning o done s p lt le = tt
begins_pass c0 o0 P (call x ∷ js) goes_on beginning o done s p lt le = record { past = any c0 o0 P beginning o [] js [] (x ∷ done) p; lt = lt; le = le; below = tt }
begins_pass c0 o0 P (call x ∷ js) enters beginning o done s p lt le = record { past = (λ h. refl, any c0 o0 P beginning o [] (called x ∷ js) [] done p); lt = old_more c0 s.next lt; le = omega (arith, le); below = tt }
begins_pass c0 o0 P (call x ∷ js) c beginning o done s p lt le = tt
begins_pass c0 o0 P (called x ∷ js) goes_on beginning o done s p lt le = record { past = any c0 o0 P beginning o [] js [] (x ∷ done) p; lt = lt; le = le; below = tt }
begins_pass c0 o0 P (called x ∷ js) c beginning o done s p lt le = tt

rolls_back_passes : (c0 : Cause) (o0 : ℕ) (P : ℕ → Type 0) (done : List ℕ) (c : Choice) (z o : ℕ) (k : Control) (s : State) → Rest c0 o0 P (undoes z o done k) → Old c0 s.next → o0 < s.created → Passes c0 o0 P (rolls_back done c z o k s)
rolls_back_passes c0 o0 P [] goes_on z o k s p lt le = record { past = p.1; lt = lt; le = le; below = tt }
rolls_back_passes c0 o0 P [] c z o k s p lt le = tt
rolls_back_passes c0 o0 P (x ∷ done) goes_on z o k s p lt le = finalize_passes c0 o0 P (s.alive o x) false o x (undoing z) _ s (λ h is q pos. p.0 h is q (omega (arith, pos)), p.1) lt le (λ h is. p.0 h is x (let one = same_self x in omega (arith, one)))
rolls_back_passes c0 o0 P (x ∷ done) enters z o k s p lt le = finalize_passes c0 o0 P (s.alive o x) true o x (undoing z) _ s (λ h is q pos. p.0 h is q (omega (arith, pos)), p.1) lt le (λ h is. p.0 h is x (let one = same_self x in omega (arith, one)))
rolls_back_passes c0 o0 P (x ∷ done) c z o k s p lt le = tt

member_passes : (c0 : Cause) (o0 : ℕ) (P : ℕ → Type 0) (l o b : ℕ) (os : List ℕ) (is : List Item) (z : ℕ) (mode : Mode) (k : Control) (s : State) → in_list o os ≡ l → Rest c0 o0 P (leaves (record { number = z; items = record { number = b; owned = collection os } ∷ is }) mode k) → Old c0 s.next → o0 < s.created → Passes c0 o0 P (member l o (record { number = b; owned = collection os }) is (record { number = z; items = record { number = b; owned = collection os } ∷ is }) mode k s)
member_passes c0 o0 P zero o b os is z mode k s e p lt le = tt
member_passes c0 o0 P (suc l) o b os is z mode k s e p lt le = record { past = ((λ h same' q pos. absurd (let n = p.0 (keyed z b c0 h) in let n' : in_list o os + in_items o is ≡ 0 = subst (λ (y : ℕ). in_list y os + in_items y is ≡ 0) (sym same') n in omega (arith, n', e))), (λ h. items_out o o0 (record { number = b; owned = collection os } ∷ is) (p.0 h)), rest_parted c0 o0 P o k p.1); lt = lt; le = le; below = tt }

leave_owned_passes : (c0 : Cause) (o0 : ℕ) (P : ℕ → Type 0) (owned : Owned) (c : Choice) (b : ℕ) (is : List Item) (z : ℕ) (mode : Mode) (k : Control) (s : State) → Rest c0 o0 P (leaves (record { number = z; items = record { number = b; owned = owned } ∷ is }) mode k) → Old c0 s.next → o0 < s.created → Passes c0 o0 P (leave_owned owned c (record { number = b; owned = owned }) is (record { number = z; items = record { number = b; owned = owned } ∷ is }) mode k s)
leave_owned_passes c0 o0 P (declared o) goes_on b is z mode k s p lt le = record { past = ((λ h same' q pos. absurd (let n = p.0 (keyed z b c0 h) in let one : same o0 o ≡ 1 = rw same' (same_self o0) in omega (arith, n, one))), (λ h. let n = p.0 h in omega (arith, n)), p.1); lt = lt; le = le; below = tt }
leave_owned_passes c0 o0 P (declared o) c b is z mode k s p lt le = tt
leave_owned_passes c0 o0 P (collection []) goes_on b is z mode k s p lt le = record { past = (λ h. let n = p.0 h in omega (arith, n), p.1); lt = lt; le = le; below = tt }
leave_owned_passes c0 o0 P (collection []) c b is z mode k s p lt le = tt
leave_owned_passes c0 o0 P (collection (o ∷ os)) (takes x) b is z mode k s p lt le = member_passes c0 o0 P (in_list x (o ∷ os)) x b (o ∷ os) is z mode k s refl p lt le
leave_owned_passes c0 o0 P (collection (o ∷ os)) c b is z mode k s p lt le = tt

leave_passes : (c0 : Cause) (o0 : ℕ) (P : ℕ → Type 0) (items : List Item) (c : Choice) (z : ℕ) (mode : Mode) (k : Control) (s : State) → Rest c0 o0 P (leaves (record { number = z; items = items }) mode k) → Old c0 s.next → o0 < s.created → Passes c0 o0 P (leave items c (record { number = z; items = items }) mode k s)
leave_passes c0 o0 P [] goes_on z mode k s p lt le = record { past = p.1; lt = lt; le = le; below = tt }
leave_passes c0 o0 P [] c z mode k s p lt le = tt
leave_passes c0 o0 P (i ∷ is) c z mode k s p lt le = leave_owned_passes c0 o0 P i.owned c i.number is z mode k s p lt le

allocates_passes : (c0 : Cause) (o0 : ℕ) (P : ℕ → Type 0) (l b c : ℕ) (f : Forest) (m : Master) (k : Control) (s : State) → Rest c0 o0 P (acts m k) → Old c0 s.next → o0 < s.created → Passes c0 o0 P (allocates_by l b c f m k s)
allocates_passes c0 o0 P (suc zero) b c f m k s p lt le = record { past = (λ h e. omega (arith, e, le), p); lt = lt; le = omega (arith, le); below = tt }
allocates_passes c0 o0 P zero b c f m k s p lt le = tt
allocates_passes c0 o0 P (suc (suc l)) b c f m k s p lt le = tt

frees_passes : (c0 : Cause) (o0 : ℕ) (P : ℕ → Type 0) (l z o : ℕ) (m : Master) (k : Control) (s : State) → Rest c0 o0 P (acts m k) → Old c0 s.next → o0 < s.created → Passes c0 o0 P (frees_by l z o m k s)
frees_passes c0 o0 P (suc l) zero o m k s p lt le = record { past = ((λ h is q pos. absurd (not_freeing c0 s.next lt h)), rest_parted c0 o0 P o (acts m k) p); lt = old_more c0 s.next lt; le = omega (arith, le); below = tt }
frees_passes c0 o0 P zero z o m k s p lt le = tt
frees_passes c0 o0 P (suc l) (suc z) o m k s p lt le = tt

copies_passes : (c0 : Cause) (o0 : ℕ) (P : ℕ → Type 0) (l z : Bool) (o : ℕ) (f : Forest) (m : Master) (k : Control) (s : State) → Rest c0 o0 P (acts m k) → Old c0 s.next → o0 < s.created → Passes c0 o0 P (copies_by l z o f m k s)
copies_passes c0 o0 P true true o f m k s p lt le = record { past = ((λ h is q pos. absurd (not_assigning c0 s.next lt h)), p); lt = old_more c0 s.next lt; le = omega (arith, le); below = tt }
copies_passes c0 o0 P true false o f m k s p lt le = tt
copies_passes c0 o0 P false z o f m k s p lt le = tt

act_passes : (c0 : Cause) (o0 : ℕ) (P : ℕ → Type 0) (c : Choice) (m : Master) (k : Control) (s : State) → Rest c0 o0 P (acts m k) → Old c0 s.next → o0 < s.created → Passes c0 o0 P (act c m k s)
act_passes c0 o0 P goes_on m k s p lt le = tt
act_passes c0 o0 P (takes x) m k s p lt le = tt
act_passes c0 o0 P enters m k s p lt le = record { past = (λ h. refl, p); lt = old_more c0 s.next lt; le = omega (arith, le); below = tt }
act_passes c0 o0 P finishes m k s p lt le = record { past = p; lt = lt; le = le; below = tt }
act_passes c0 o0 P raises m k s p lt le = record { past = p; lt = lt; le = le; below = tt }
act_passes c0 o0 P catches m k s p lt le = tt
act_passes c0 o0 P (declares f w) m k s p lt le = record { past = (λ h e. omega (arith, e, le), p); lt = lt; le = omega (arith, le); below = tt }
act_passes c0 o0 P (collects c) m k s p lt le = owns_passes c0 o0 P (is_above c m.items) c (collection []) m k s (λ h. refl) p lt le
act_passes c0 o0 P (joins_as c) m k s p lt le = tt
act_passes c0 o0 P (allocates b c f w) m k s p lt le = allocates_passes c0 o0 P (opens b c (acts m k)) b c f m k s p lt le
act_passes c0 o0 P (deallocates o) m k s p lt le = frees_passes c0 o0 P (listed o (acts m k)) (assigned o (acts m k)) o m k s p lt le
act_passes c0 o0 P (copies o f w) m k s p lt le = copies_passes c0 o0 P (s.objects o).lives (all_alive (s.alive o) f) o f m k s p lt le

running_passes : (c0 : Cause) (o0 : ℕ) (P : ℕ → Type 0) (c : Choice) (k : Control) (s : State) → Rest c0 o0 P k → Old c0 s.next → o0 < s.created → Passes c0 o0 P (running_step c k s)
running_passes c0 o0 P c stops s p lt le = tt
running_passes c0 o0 P c (acts m k) s p lt le = act_passes c0 o0 P c m k s p lt le
running_passes c0 o0 P c (leaves m mode k) s p lt le = leave_passes c0 o0 P m.items c m.number mode k s p lt le
running_passes c0 o0 P c (finalizes m i o fs mode k) s p lt le = ends_pass c0 o0 P fs c (at_leaving m i mode k) o s p lt le
running_passes c0 o0 P c (frees x o fs k) s p lt le = ends_pass c0 o0 P fs c (at_free x k) o s p lt le
running_passes c0 o0 P c (initializes o joins js done k) s p lt le = begins_pass c0 o0 P js c (at_creation joins k) o done s p lt le
running_passes c0 o0 P c (undoes x o done k) s p lt le = rolls_back_passes c0 o0 P done c x o k s p lt le
running_passes c0 o0 P c (assigns x o f fs k) s p lt le = ends_pass c0 o0 P fs c (at_assignment x f k) o s p lt le
running_passes c0 o0 P c (adjusts o f js done k) s p lt le = begins_pass c0 o0 P js c (at_adjustment f k) o done s p lt le

raising_act_passes : (c0 : Cause) (o0 : ℕ) (P : ℕ → Type 0) (c : Choice) (m : Master) (k : Control) (s : State) → Rest c0 o0 P (acts m k) → Old c0 s.next → o0 < s.created → Passes c0 o0 P (raising_act c m k s)
raising_act_passes c0 o0 P catches m k s p lt le = record { past = p; lt = lt; le = le; below = tt }
raising_act_passes c0 o0 P goes_on m k s p lt le = record { past = p; lt = lt; le = le; below = tt }
raising_act_passes c0 o0 P c m k s p lt le = tt

raising_passes : (c0 : Cause) (o0 : ℕ) (P : ℕ → Type 0) (c : Choice) (k : Control) (s : State) → Rest c0 o0 P k → Old c0 s.next → o0 < s.created → Passes c0 o0 P (raising_step c k s)
raising_passes c0 o0 P c (acts m k) s p lt le = raising_act_passes c0 o0 P c m k s p lt le
raising_passes c0 o0 P c (initializes o joins js done k) s p lt le = record { past = ((λ h is q pos. absurd (not_undoing c0 s.next lt h)), p.1); lt = old_more c0 s.next lt; le = omega (arith, le); below = tt }
raising_passes c0 o0 P c k s p lt le = tt

mode_passes : (c0 : Cause) (o0 : ℕ) (P : ℕ → Type 0) (mode : Mode) (c : Choice) (s : State) → Rest c0 o0 P s.control → Old c0 s.next → o0 < s.created → Passes c0 o0 P (mode_step mode c s)
mode_passes c0 o0 P running c s p lt le = running_passes c0 o0 P c s.control s p lt le
mode_passes c0 o0 P raising c s p lt le = raising_passes c0 o0 P c s.control s p lt le

pub step_passes : (c0 : Cause) (o0 : ℕ) (P : ℕ → Type 0) (c : Choice) (s : State) (e : Event) (t : State) → Rest c0 o0 P s.control → Old c0 s.next → o0 < s.created → step c s ≡ goes e t → Passing c0 o0 P e t.control t.created t.next
unfolding step
step_passes c0 o0 P c s e t p lt le is = subst (Passes c0 o0 P) is (mode_passes c0 o0 P s.mode c s p lt le)
