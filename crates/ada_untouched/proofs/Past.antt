-- Heaps that are the same but for what lies in past objects: these are found gone in both, whatever becomes of an object; they weigh nothing, and may be
-- forgotten.

use Rattle.std.proofs.Common.{◌≡◌, ℕ, suc, ◌+◌, Bool, true, false, List, [], ◌∷◌, length, Option, Some, None, refl, sym, ap, ◌∙◌, inl, inr, subst, arith, length-set}
use Rattle.std.specs.Prelude.{not, ◌&&◌, if◌then◌else◌}
use Rattle.std.specs.List.{slice_get, slice_set}
use Rattle.ada_program.specs.declared.program.TypeDefinition.{TypeDefinition}
use Rattle.ada_program.specs.Form.{ExpressionForm, reads, is_null, ItemForm, item_of_path, item_of_record, RightForm, value_of, StmtForm, assigns, assigns_record, frees, gets, StmtsForm, no_stmts, a_stmt}
use Rattle.ada_program.specs.ProgramForm.{body_forms}
use Rattle.ada_meaning.specs.declared.state.Id.{Id}
use Rattle.ada_meaning.specs.declared.state.Mode.{Mode}
use Rattle.ada_meaning.specs.declared.state.Mode.TheVariants.{Running, Raising, Exiting, Returning}
use Rattle.ada_meaning.specs.declared.state.Stage.{Stage}
use Rattle.ada_meaning.specs.declared.state.Stage.TheVariants.{Building, Existing, Gone}
use Rattle.ada_meaning.specs.declared.state.Value.{Value}
use Rattle.ada_meaning.specs.declared.state.Value.TheVariants.{Null, Names, Scalar, Part}
use Rattle.ada_meaning.specs.Ending.{object_weight, heap_weight, weight}
use Rattle.ada_meaning.specs.Frame.{Frame}
use Rattle.ada_meaning.specs.Frame as frame
use Rattle.ada_meaning.specs.Heap.{Cell, Found, on_null, on_gone, on_other, finds}
use Rattle.ada_meaning.specs.Pace.{object_operations, heap_operations, operations_left, full_cost, full_weight}
use Rattle.ada_meaning.specs.State.{Item, Master}
use Rattle.ada_meaning.specs.Step.{halts, moves, tells, asks, picks, held, newest, selected, before_last}
use Rattle.ada_meaning.specs.Named.{Object, State, Next, named, object_at, changed, existing, seen, look, lent_by, lent, all_alive, standing_by, standing, new_object, create, parted, finished, returned, filled, treated, on_object, whole, inside, next}
use Rattle.ada_untouched.specs.Alike.{NextBy}
use Rattle.ada_untouched.specs.Untouched.{hides, IsInSight, IsReadable, IsOpen, LeadsToHolder, MayBeSought, MayBeFreed, NewestHousesNoGhost, InnermostHousesNoGhost, ExpressionIsOpen, ItemIsOpen, ItemsAreOpen, RightIsOpen, FreedIsOpen, StatementIsOpen, StatementsAreOpen, FrameIsOpen, JumpIsOpen, FirstIsOpen}
use Rattle.ada_untouched.specs.Past.{is_gone, is_past, is_past_at, SameOrPast, HeapsButForPast, StatesButForPast, nothing_left, forgotten, forgetting}
use Rattle.ada_untouched.specs.Law.{PastObjectsDoNotMatter, PastObjectsWeighNothing, ForgettingChangesPastAlone}
use Rattle.ada_untouched.proofs.Heaps.{CellsAlike, same_values, member_by, same_members, on_length, on_both, added, added_length, one_or_other, set_here, set_there}
use Rattle.ada_untouched.proofs.Relation.{Keeps, NextSo}
use Rattle.ada_untouched.proofs.Law.{steps_so}

-- An object that is past is gone, in no collection, and its words are back.
record Past (x : Object) : Type 0 where
  gone : x.stage ≡ Gone
  unlisted : x.listed ≡ false
  back : x.out ≡ false

past_by : (stage : Stage) (listed out : Bool) → (is_gone stage && (not listed && not out)) ≡ true → (stage ≡ Gone) × (listed ≡ false) × (out ≡ false)
past_by Building listed out e = absurd (cc)
past_by Existing listed out e = absurd (cc)
past_by Gone true out e = absurd (cc)
past_by Gone false true e = absurd (cc)
past_by Gone false false e = (refl, refl, refl)

past_is : (x : Object) → is_past x ≡ true → Past x
past_is x e = let p = past_by x.stage x.listed x.out e in record { gone = p.0; unlisted = p.1; back = p.2 }

-- What holds of one object in two places, and of past ones, holds of what is found under a name.
by_past :
    (P : Option Object → Option Object → Type 0) → ((f : Option Object) → P f f) → ((x y : Object) → Past x → Past y → P (Some x) (Some y))
    → (f g : Option Object) → SameOrPast f g → P f g
by_past P same past f g (inl e) = subst (λ (d : Option Object). P f d) (sym e) (same f)
by_past P same past None g (inr both) = absurd (let no = both.0 in cc no)
by_past P same past (Some x) None (inr both) = absurd (let no = both.1 in cc no)
by_past P same past (Some x) (Some y) (inr both) = past x y (past_is x both.0) (past_is y both.1)

-- What is found.
same_cells : (hiding : ℕ → Bool) (f : Found (Cell Value)) → CellsAlike hiding f f
same_cells hiding on_null = refl
same_cells hiding on_gone = refl
same_cells hiding on_other = refl
same_cells hiding (finds cell) = (cell.values, refl, same_values hiding cell.values)

both_gone : (hiding : ℕ → Bool) (f g : Found (Cell Value)) → f ≡ on_gone → g ≡ on_gone → CellsAlike hiding f g
both_gone hiding f g here there = subst (λ (d : Found (Cell Value)). CellsAlike hiding d g) (sym here) there

seen_gone : (x : Object) → Past x → seen (Some x) ≡ on_gone
seen_gone x past = ap (existing x) past.gone

lent_gone : (x : Object) → Past x → lent_by (Some x) ≡ on_gone
lent_gone x past = ap (λ (b : Bool). if b then finds x.cell else on_gone) past.back

standing_gone : (x : Object) → Past x → standing_by (Some x) ≡ on_gone
standing_gone x past = ap (λ (b : Bool). if b && all_alive x.cell.parts then finds x.cell else on_gone) past.unlisted

-- A past object stays past.
abbrev StaysPast : (Object → Object) → Type 0
StaysPast change = (x : Object) → is_past x ≡ true → is_past (change x) ≡ true

parted_past : StaysPast parted
parted_past x e = let past = past_is x e in rw (past.gone, past.back)

finished_past : StaysPast finished
finished_past x e = let past = past_is x e in rw (past.back)

returned_past : StaysPast returned
returned_past x e = let past = past_is x e in rw (past.gone, past.unlisted)

changed_so : (change : Object → Object) → StaysPast change → (x y : Object) → SameOrPast (Some x) (Some y) → SameOrPast (Some (change x)) (Some (change y))
changed_so change stays x y (inl e) = inl (cc e)
changed_so change stays x y (inr both) = inr (stays x both.0, stays y both.1)

module _ (h k : List Object) (a : HeapsButForPast h k) where
  look_past : (hiding : ℕ → Bool) (v : Value) → CellsAlike hiding (look h v) (look k v)
  look_past hiding Null = refl
  look_past hiding (Names o) =
      by_past (λ f g. CellsAlike hiding (seen f) (seen g)) (λ f. same_cells hiding (seen f))
      (λ x y px py. both_gone hiding (seen (Some x)) (seen (Some y)) (seen_gone x px) (seen_gone y py))
      (object_at h o) (object_at k o) (a.objects o)
  look_past hiding (Scalar v) = refl
  look_past hiding (Part o place) = refl

  lent_past : (hiding : ℕ → Bool) (v : Value) → CellsAlike hiding (lent h v) (lent k v)
  lent_past hiding Null = refl
  lent_past hiding (Names o) =
      by_past (λ f g. CellsAlike hiding (lent_by f) (lent_by g)) (λ f. same_cells hiding (lent_by f))
      (λ x y px py. both_gone hiding (lent_by (Some x)) (lent_by (Some y)) (lent_gone x px) (lent_gone y py))
      (object_at h o) (object_at k o) (a.objects o)
  lent_past hiding (Scalar v) = refl
  lent_past hiding (Part o place) = refl

  standing_past : (hiding : ℕ → Bool) (v : Value) → CellsAlike hiding (standing h v) (standing k v)
  standing_past hiding Null = refl
  standing_past hiding (Names o) =
      by_past (λ f g. CellsAlike hiding (standing_by f) (standing_by g)) (λ f. same_cells hiding (standing_by f))
      (λ x y px py. both_gone hiding (standing_by (Some x)) (standing_by (Some y)) (standing_gone x px) (standing_gone y py))
      (object_at h o) (object_at k o) (a.objects o)
  standing_past hiding (Scalar v) = refl
  standing_past hiding (Part o place) = refl

  members_past : (item : ℕ) → named.members k item ≡ named.members h item
  members_past item =
      same_members item h k a.count
      (λ o. by_past (λ f g. member_by item g ≡ member_by item f) (λ f. refl) (λ x y px py. not_member y py ∙ sym (not_member x px))
      (object_at h o) (object_at k o) (a.objects o))
    where
      not_member : (x : Object) → Past x → member_by item (Some x) ≡ false
      not_member x past = rw (past.unlisted)

  on_past : (change : Object → Object) → StaysPast change → (v : Value) → HeapsButForPast (on_object change h v) (on_object change k v)
  on_past change stays v = record {
    count = on_length change h v ∙ a.count ∙ sym (on_length change k v);
    objects = on_both (λ o f g. SameOrPast f g) change (λ o x y. changed_so change stays x y) h k a.count a.objects v;
  }

  create_past : (words : ℕ) (cell : Cell Value) → HeapsButForPast (create h words cell) (create k words cell)
  create_past words cell = record {
    count = added_length (new_object cell) h k a.count;
    objects = λ o. added (λ f g. SameOrPast f g) (λ f. inl refl) (new_object cell) h k o.0 a.count (a.objects o);
  }

-- No component is hidden, and no object is a ghost.
abbrev none_hidden : Id → (component : ℕ) → Bool
none_hidden o component = false

abbrev no_ghosts : Id → Bool
no_ghosts o = false

heaps_but_for_past_keep : Keeps none_hidden no_ghosts HeapsButForPast
heaps_but_for_past_keep = record {
  looks = λ h k a v clear. look_past h k a (hides none_hidden v) v;
  lends = λ h k a v clear. lent_past h k a (hides none_hidden v) v;
  stands = λ h k a v clear. standing_past h k a (hides none_hidden v) v;
  names = λ h k a words. ap (λ (n : ℕ). Names (record { 0 = n })) (sym a.count);
  collects = λ h k a item. members_past h k a item;
  parts = λ h k a. on_past h k a parted parted_past;
  finishes = λ h k a. on_past h k a finished finished_past;
  returns = λ h k a. on_past h k a returned returned_past;
  fills = λ h k a v c u. on_past h k a (filled c u) (λ x past. past) v;
  treats = λ h k a change part. on_past h k a (treated change part) (λ x past. past);
  creates = create_past;
}

-- So each step looks at no hidden component, and at no ghost.
none_hides : (v : Value) (c : ℕ) → hides none_hidden v c ≡ false
none_hides Null c = refl
none_hides (Names o) c = refl
none_hides (Scalar v) c = refl
none_hides (Part o place) c = refl

sights : (v : Value) → IsInSight no_ghosts v
sights Null = refl
sights (Names o) = refl
sights (Scalar v) = refl
sights (Part o place) = refl

-- There are no ghosts, so none has its home in an item.
newest_houses_none : (h : List Object) (items : List Item) → NewestHousesNoGhost no_ghosts h items
newest_houses_none h [] = tt
newest_houses_none h (i ∷ is) = inr (λ o x ghost found listed same. cc ghost)

innermost_houses_none : (h : List Object) (masters : List Master) → InnermostHousesNoGhost no_ghosts h masters
innermost_houses_none h [] = tt
innermost_houses_none h (m ∷ ms) = newest_houses_none h m.items

readable : (v : Value) (c : ℕ) → IsReadable none_hidden no_ghosts v c
readable v c = (sights v, none_hides v c)

open_path : (cs : List ℕ) (v : Value) → IsOpen none_hidden no_ghosts cs v
open_path [] v = tt
open_path (c ∷ cs) v = readable v c

leads_to_holder : (cs : List ℕ) (v : Value) → LeadsToHolder none_hidden no_ghosts cs v
leads_to_holder [] v = tt
leads_to_holder (c ∷ cs) v = open_path (before_last (inside v c) cs) (whole v)

freed_component : (found : Option Value) → MayBeSought no_ghosts found
freed_component None = tt
freed_component (Some v) = sights v

may_be_freed : (c : ℕ) (found : Found (Cell Value)) → MayBeFreed no_ghosts c found
may_be_freed c on_null = tt
may_be_freed c on_gone = tt
may_be_freed c on_other = tt
may_be_freed c (finds cell) = freed_component (slice_get cell.values c)

module _ (s : State) where
  leads_on : (cs : List ℕ) (x : ℕ) → IsOpen none_hidden no_ghosts (selected named (held named s x) cs) (whole (held named s x))
  leads_on cs x = open_path (selected named (held named s x) cs) (whole (held named s x))

  expression_open : (e : ExpressionForm) → ExpressionIsOpen none_hidden no_ghosts s e
  expression_open (reads path) = leads_on path.selectors path.root
  expression_open (is_null equal path) = leads_on path.selectors path.root
  expression_open e = tt

  item_open : (i : ItemForm) → ItemIsOpen none_hidden no_ghosts s i
  item_open (item_of_path path) = leads_on path.selectors path.root
  item_open (item_of_record p) = leads_on p.object.selectors p.object.root
  item_open i = tt

  items_open : (items : List ItemForm) → ItemsAreOpen none_hidden no_ghosts s items
  items_open [] = tt
  items_open (i ∷ is) = item_open i

  right_open : (right : RightForm) → RightIsOpen none_hidden no_ghosts s right
  right_open (value_of path) = leads_on path.selectors path.root
  right_open right = tt

  freed_open : (cs : List ℕ) (v : Value) → FreedIsOpen none_hidden no_ghosts s cs v
  freed_open [] v = sights v
  freed_open (c ∷ cs) v = leads_to_holder (c ∷ cs) v

  statement_open : (f : StmtForm) → StatementIsOpen none_hidden no_ghosts s f
  statement_open (assigns target right) = leads_to_holder target.selectors (held named s target.root)
  statement_open (assigns_record target items) = leads_on target.object.selectors target.object.root
  statement_open (frees access path) = freed_open path.selectors (held named s path.root)
  statement_open (gets target) = leads_to_holder target.selectors (held named s target.root)
  statement_open f = tt

  statements_open : (fs : StmtsForm) → StatementsAreOpen none_hidden no_ghosts s fs
  statements_open no_stmts = tt
  statements_open (a_stmt f fs) = statement_open f

  jump_open : (f : Frame Value) → JumpIsOpen none_hidden no_ghosts s f
  jump_open (frame.Awaits v by done of part tasks) = sights v
  jump_open f = tt

module _ (types : List TypeDefinition) (s : State) where
  frame_open : (f : Frame Value) → FrameIsOpen types none_hidden no_ghosts s f
  frame_open (frame.Does fs) = statements_open s fs
  frame_open (frame.Leaves mode) = innermost_houses_none s.heap s.masters
  frame_open (frame.Evaluates right) = right_open s right
  frame_open (frame.Computes e) = expression_open s e
  frame_open (frame.Follows cs) = open_path cs (newest named s)
  frame_open (frame.Refers p) = leads_on s p.object.selectors p.object.root
  frame_open (frame.RefersIn place t) = sights (newest named s)
  frame_open (frame.Opens path) = leads_to_holder path.selectors (held named s path.root)
  frame_open (frame.OpensIn c) = readable (newest named s) c
  frame_open (frame.Fills items) = items_open s items
  frame_open (frame.Copies first t) = (sights (newest named s), λ i below. none_hides (newest named s) (first + i))
  frame_open (frame.Targets c right) = sights (newest named s)
  frame_open (frame.StoresIn v c) = sights v
  frame_open (frame.TargetsRecord first t items) = sights (newest named s)
  frame_open (frame.StoresRecord v first count) = sights v
  frame_open (frame.Receives c) = sights (newest named s)
  frame_open (frame.FreesIn access c) = (readable (newest named s) c, may_be_freed c (look s.heap (newest named s)))
  frame_open (frame.Treats v treatment tasks) = sights v
  frame_open (frame.Awaits v by done of part tasks) = sights v
  frame_open (frame.Ends v) = sights v
  frame_open (frame.GivesBack v cause pool) = sights v
  frame_open (frame.ClearsIn v c) = sights v
  frame_open f = tt

  first_open : (m : Mode) (k : List (Frame Value)) → FirstIsOpen types none_hidden no_ghosts s m k
  first_open m [] = tt
  first_open Running (f ∷ k) = frame_open f
  first_open (Raising e) (f ∷ k) = jump_open s f
  first_open Exiting (f ∷ k) = jump_open s f
  first_open Returning (f ∷ k) = jump_open s f

-- Whatever the events spare.
whatever_spared : (n m : Next) → NextSo no_ghosts HeapsButForPast n m → NextBy HeapsButForPast (λ event. Unit {0}) n m
whatever_spared (halts h) m is = is
whatever_spared (moves e s) m is = (is.0, is.1, is.2, tt)
whatever_spared (tells request e s) m is = (is.0, is.1, is.2, tt)
whatever_spared (asks request answered) m is = is
whatever_spared (picks count taken) m is = is

pub past_does_not_matter : PastObjectsDoNotMatter
past_does_not_matter types bodies s t both =
    whatever_spared (next types bodies s) (next types bodies t) (steps_so heaps_but_for_past_keep types bodies s t (first_open types s s.mode s.control) both)

-- What is in no collection weighs nothing.
module _ (types : List TypeDefinition) (cost : (of : ℕ) → ℕ) where
  abbrev weight_at : Option Object → ℕ
  weight_at None = 0
  weight_at (Some x) = object_weight types x

  abbrev operations_at : Option Object → ℕ
  operations_at None = 0
  operations_at (Some x) = object_operations types cost x

  heaps_weigh : (h k : List Object) → length h ≡ length k → ((i : ℕ) → weight_at (slice_get k i) ≡ weight_at (slice_get h i)) → heap_weight types k ≡ heap_weight types h
  heaps_weigh [] [] e each = refl
  heaps_weigh [] (y ∷ ys) e each = absurd (omega (arith, e))
  heaps_weigh (x ∷ xs) [] e each = absurd (omega (arith, e))
  heaps_weigh (x ∷ xs) (y ∷ ys) e each =
      ap (λ (n : ℕ). n + heap_weight types ys) (each 0)
      ∙ ap (λ (n : ℕ). object_weight types x + n) (heaps_weigh xs ys (omega (arith, e)) (λ i. each (suc i)))

  heaps_operate : (h k : List Object) → length h ≡ length k → ((i : ℕ) → operations_at (slice_get k i) ≡ operations_at (slice_get h i)) → heap_operations types cost k ≡ heap_operations types cost h
  heaps_operate [] [] e each = refl
  heaps_operate [] (y ∷ ys) e each = absurd (omega (arith, e))
  heaps_operate (x ∷ xs) [] e each = absurd (omega (arith, e))
  heaps_operate (x ∷ xs) (y ∷ ys) e each =
      ap (λ (n : ℕ). n + heap_operations types cost ys) (each 0)
      ∙ ap (λ (n : ℕ). object_operations types cost x + n) (heaps_operate xs ys (omega (arith, e)) (λ i. each (suc i)))

  past_weight : (x : Object) → Past x → object_weight types x ≡ 0
  past_weight x past = rw (past.unlisted)

  past_operations : (x : Object) → Past x → object_operations types cost x ≡ 0
  past_operations x past = rw (past.unlisted)

  heap_weight_same : (h k : List Object) → HeapsButForPast h k → heap_weight types k ≡ heap_weight types h
  heap_weight_same h k a =
      heaps_weigh h k a.count
      (λ i. by_past (λ f g. weight_at g ≡ weight_at f) (λ f. refl) (λ x y px py. past_weight y py ∙ sym (past_weight x px))
      (slice_get h i) (slice_get k i) (a.objects (record { 0 = i })))

  heap_operations_same : (h k : List Object) → HeapsButForPast h k → heap_operations types cost k ≡ heap_operations types cost h
  heap_operations_same h k a =
      heaps_operate h k a.count
      (λ i. by_past (λ f g. operations_at g ≡ operations_at f) (λ f. refl) (λ x y px py. past_operations y py ∙ sym (past_operations x px))
      (slice_get h i) (slice_get k i) (a.objects (record { 0 = i })))

  weight_same : (s t : State) → StatesButForPast s t → weight types t ≡ weight types s
  unfolding weight
  weight_same s t both = rw (both.rest, heap_weight_same s.heap t.heap both.heaps)

  operations_same : (s t : State) → StatesButForPast s t → operations_left types cost t ≡ operations_left types cost s
  unfolding operations_left
  operations_same s t both = rw (both.rest, heap_operations_same s.heap t.heap both.heaps)

pub past_weighs_nothing : PastObjectsWeighNothing
unfolding full_weight
past_weighs_nothing program s t both =
    let types = program.types.items in
    let cost = full_cost types (body_forms program) in
    rw (weight_same types cost s t both, operations_same types cost s t both)

-- One more object is forgotten.
forgotten_by : (b : Bool) (x : Object) → is_past x ≡ b → is_past (if b then nothing_left else x) ≡ b
forgotten_by true x e = refl
forgotten_by false x e = e

forgotten_past : (f : Option Object) (y : Object) → SameOrPast f (Some y) → SameOrPast f (Some (forgotten y))
forgotten_past f y so = by_case (is_past y) refl
  where
    by_case : (b : Bool) → is_past y ≡ b → SameOrPast f (Some (if b then nothing_left else y))
    by_case false e = so
    by_case true e = inr (elim so [ inl same ↦ ap is_past_at (sym same) ∙ e | inr both ↦ both.0 ], refl)

pub forgetting_changes_past_alone : ForgettingChangesPastAlone
forgetting_changes_past_alone o s t both = record {
  rest = ap (λ (z : State). record z { heap = (forgetting o t).heap }) both.rest;
  heaps = by_name (object_at t.heap o) refl;
}
  where
    by_name : (found : Option Object) → object_at t.heap o ≡ found → HeapsButForPast s.heap (changed forgotten found t.heap o)
    by_name None there = both.heaps
    by_name (Some y) there = record {
      count = both.heaps.count ∙ sym (length-set t.heap o.0 (forgotten y));
      objects = λ p. elim (one_or_other p o) as (λ w. SameOrPast (object_at s.heap p) (slice_get (slice_set t.heap o.0 (forgotten y)) p.0)) [
        | inl e ↦ subst (λ (q : Id). SameOrPast (object_at s.heap q) (slice_get (slice_set t.heap o.0 (forgotten y)) q.0)) (sym e)
            (subst (λ (f : Option Object). SameOrPast (object_at s.heap o) f) (sym (set_here t.heap o.0 y (forgotten y) there))
            (forgotten_past (object_at s.heap o) y (subst (λ (f : Option Object). SameOrPast (object_at s.heap o) f) there (both.heaps.objects o))))
        | inr ne ↦ subst (λ (f : Option Object). SameOrPast (object_at s.heap p) f) (sym (set_there t.heap o.0 p.0 (forgotten y) ne)) (both.heaps.objects p)
      ];
    }
