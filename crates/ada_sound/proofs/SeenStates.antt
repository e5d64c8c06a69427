-- A state stands for the real one, in which some objects that have gone with their collections exist still, the ghosts: what is there is the same otherwise, and what
-- one step does there, it does in the real one.

use Rattle.std.proofs.Common.{◌≡◌, ◌≢◌, ◌≤◌, ℕ, suc, Bool, true, false, ◌||◌, List, [], ◌∷◌, Option, Some, None, arith, refl, sym, ap, ◌∙◌, subst, ◌⊎◌, inl, inr, length-set}
use Rattle.std.proofs.lemmas.Bool.{eqb-true, eq-eqb}
use Rattle.std.specs.Prelude.{◌==◌}
use Rattle.std.specs.List.{slice_get, slice_set}
use Rattle.ada_program.specs.ProgramForm.{ProgramForm}
use Rattle.ada_program.specs.WellFormed.{is_this}
use Rattle.ada_meaning.specs.declared.event.Cause.{Cause}
use Rattle.ada_meaning.specs.declared.event.Halt.{Halt}
use Rattle.ada_meaning.specs.declared.event.Halt.TheVariants.{Finished, Unhandled, Escaped, Erroneous, Stuck, Memory}
use Rattle.ada_meaning.specs.declared.state.Id.{Id}
use Rattle.ada_meaning.specs.declared.state.Stage.TheVariants.{Gone}
use Rattle.ada_meaning.specs.declared.state.Value.{Value}
use Rattle.ada_meaning.specs.Event.{Born, Finalized, Back, Followed, Left, Line, Quiet}
use Rattle.ada_meaning.specs.Frame.{Frame}
use Rattle.ada_meaning.specs.Heap.{Cell}
use Rattle.ada_meaning.specs.Law.{GivesBackOf, items_of}
use Rattle.ada_meaning.specs.Named.{Object, State, object_at, finished, returned}
use Rattle.ada_meaning.specs.Run.{Event}
use Rattle.ada_meaning.specs.State.{Master}
use Rattle.ada_effects.specs.Effects.{Implicit}
use Rattle.ada_flow.specs.Flow.{is_among}
use Rattle.ada_owners.specs.Places.{is_there}
use Rattle.ada_reaching.specs.Law.{GhostsStay, none_hidden}
use Rattle.ada_typed.specs.Holding.{Cells, cells_of}
use Rattle.ada_untouched.proofs.Heaps.{same_lists}
use Rattle.ada_untouched.specs.Alike.{FoundAlike, ObjectsAlike, SparesGhosts, StatesAlike, is_ghost}
use Rattle.ada_sound.proofs.Alters.{Alters, BackIn, StaysItself}
use Rattle.ada_sound.proofs.Departing.{IsDeparted, Seen, has_gone, revived}
use Rattle.ada_sound.proofs.Invariant.{EndsWell, GoesBack, IsFollowed, Says}
use Rattle.ada_sound.proofs.Objects.{set_here, set_other, set_twice}
use Rattle.ada_sound.proofs.Stored.{AllOut, HasDeparted, Sane, Stored}
use Rattle.ada_sound.proofs.Values.{same_or_not}

-- Objects that are alike, where nothing is hidden, and neither is a ghost, are the same.
same_found : (a b : Option Object) → FoundAlike (λ c. false) false a b → b ≡ a
same_found None None f = refl
same_found None (Some y) f = absurd f
same_found (Some x) None f = absurd f
same_found (Some x) (Some y) f =
    let values : x.cell.values ≡ y.cell.values = same_lists x.cell.values y.cell.values (λ i. f.values.values i refl) in
    let cell : y.cell ≡ x.cell = f.cell ∙ ap (λ (vs : List Value). record (x.cell) { values = vs }) (sym values) in
    ap Some (f.life ∙ ap (λ (c : Cell Value). record x { cell = c }) cell)

-- What lies in them is the same, whether or not they are ghosts.
same_cell : (ghost : Bool) (x y : Object) → ObjectsAlike (λ c. false) ghost x y → y.cell ≡ x.cell
same_cell ghost x y f =
    let values : x.cell.values ≡ y.cell.values = same_lists x.cell.values y.cell.values (λ i. f.values.values i refl) in
    f.cell ∙ ap (λ (vs : List Value). record (x.cell) { values = vs }) (sym values)

-- So what lies in all of them is the same.
same_cells : (ghosts : ℕ → Bool) (h k : List Object) → ((i : ℕ) → FoundAlike (λ c. false) (ghosts i) (slice_get h i) (slice_get k i)) → cells_of k ≡ cells_of h
same_cells ghosts [] [] each = refl
same_cells ghosts [] (y ∷ ys) each = absurd (each 0)
same_cells ghosts (x ∷ xs) [] each = absurd (each 0)
same_cells ghosts (x ∷ xs) (y ∷ ys) each =
    subst (λ (c : Cell Value). c ∷ cells_of ys ≡ x.cell ∷ cells_of xs) (sym (same_cell (ghosts 0) x y (each 0)))
    (ap (λ (cs : Cells). x.cell ∷ cs) (same_cells (λ i. ghosts (suc i)) xs ys (λ i. each (suc i))))

-- Numbers that are not the same.
differ : (m n : ℕ) → m ≢ n → (m == n) ≡ false
differ m n ne = by (m == n) refl
  where
    by : (b : Bool) → (m == n) ≡ b → (m == n) ≡ false
    by true is = absurd (ne (eqb-true m n is))
    by false is = is

-- What is joined with what is so, and with what is not.
or_true : (b : Bool) → (b || true) ≡ true
or_true true = refl
or_true false = refl

or_false : (b : Bool) → (b || false) ≡ b
or_false true = refl
or_false false = refl

-- Alike are objects to themselves.
found_itself : (a : Option Object) → FoundAlike (λ c. false) false a a
found_itself None = tt
found_itself (Some x) = record { values = record { count = refl; values = λ c shown. refl }; cell = refl; listed = refl; life = refl }

-- Each state stands for itself, where nothing has departed.
pub seen_itself : (types : List ℕ) (item : ℕ) (s : State) → Seen types item (λ o. false) s s
seen_itself types item s = record {
  alike = record { rest = refl; heaps = record { count = refl; objects = λ o. found_itself (object_at s.heap o) } };
  departed = λ o is. absurd (cc is);
}

-- What is there in a state that stands for another one.
module _ {types : List ℕ} {item : ℕ} {ghosts : Id → Bool} {s v : State} (seen : Seen types item ghosts s v) where
  -- An object that is no ghost is the same in both.
  pub seen_at : (o : Id) → ghosts o ≡ false → object_at v.heap o ≡ object_at s.heap o
  seen_at o plain = same_found (object_at s.heap o) (object_at v.heap o) (subst (λ (ghost : Bool). FoundAlike (none_hidden o) ghost (object_at s.heap o) (object_at v.heap o)) plain (seen.alike.heaps.objects o))

  -- What lies in objects is the same.
  pub seen_cells : cells_of v.heap ≡ cells_of s.heap
  seen_cells = same_cells (λ i. ghosts (record { 0 = i })) s.heap v.heap (λ i. seen.alike.heaps.objects (record { 0 = i }))

  -- All else is.
  pub seen_masters : v.masters ≡ s.masters
  seen_masters = ap (λ (z : State). z.masters) (seen.alike.rest)

  pub seen_control : v.control ≡ s.control
  seen_control = ap (λ (z : State). z.control) (seen.alike.rest)

  pub seen_mode : v.mode ≡ s.mode
  seen_mode = ap (λ (z : State). z.mode) (seen.alike.rest)

  pub seen_activations : v.activations ≡ s.activations
  seen_activations = ap (λ (z : State). z.activations) (seen.alike.rest)

  -- What is there in the real state is there in this one, of its access type and in its home; and the other way round.
  pub seen_there : (o : Id) (x : Object) → object_at s.heap o ≡ Some x → (y : Object) × (object_at v.heap o ≡ Some y) × (y.cell ≡ x.cell)
  seen_there o x found = by (ghosts o) refl
    where
      by : (b : Bool) → ghosts o ≡ b → (y : Object) × (object_at v.heap o ≡ Some y) × (y.cell ≡ x.cell)
      by true is = let d = seen.departed o is in let same : d.object ≡ x = cc (d.there, found) in (revived d.object, d.is, ap (λ (z : Object). z.cell) same)
      by false is = (x, seen_at o is ∙ found, refl)

  pub real_there : (o : Id) (y : Object) → object_at v.heap o ≡ Some y → (x : Object) × (object_at s.heap o ≡ Some x) × (y.cell ≡ x.cell)
  real_there o y found = by (ghosts o) refl
    where
      by : (b : Bool) → ghosts o ≡ b → (x : Object) × (object_at s.heap o ≡ Some x) × (y.cell ≡ x.cell)
      by true is = let d = seen.departed o is in let same : y ≡ revived d.object = cc (d.is, found) in (d.object, d.there, ap (λ (z : Object). z.cell) same)
      by false is = (y, sym (seen_at o is) ∙ found, refl)

  -- What is in its collection in the real state is no ghost.
  pub listed_plain : (o : Id) (x : Object) → object_at s.heap o ≡ Some x → x.listed ≡ true → ghosts o ≡ false
  listed_plain o x found listed = by (ghosts o) refl
    where
      by : (b : Bool) → ghosts o ≡ b → ghosts o ≡ false
      by true is = let d = seen.departed o is in let same : d.object ≡ x = cc (d.there, found) in let never = rw same at (d.unlisted) in absurd (cc (never, listed))
      by false is = is

  -- So is what is in its collection in this one: a ghost is unlisted there, too.
  pub seen_listed : (o : Id) (y : Object) → object_at v.heap o ≡ Some y → y.listed ≡ true → ghosts o ≡ false
  seen_listed o y found listed = by (ghosts o) refl
    where
      by : (b : Bool) → ghosts o ≡ b → ghosts o ≡ false
      by true is = let d = seen.departed o is in let same : revived d.object ≡ y = cc (d.is, found) in let never = ap (λ (z : Object). z.listed) (sym same) ∙ d.unlisted in absurd (cc (never, listed))
      by false is = is

  -- Each ghost has gone with its collection, of a type of these, with its home in that item or a newer one.
  pub ghost_departed : (o : Id) → ghosts o ≡ true → (x : Object) × HasDeparted v.heap o x × (has_gone types x.cell.access ≡ true) × (item ≤ x.cell.home.item)
  ghost_departed o is = let d = seen.departed o is in (revived d.object, record { found = d.is; there = refl; back = d.back }, d.of_type, d.newer)

  -- What has gone so is a ghost, where of all that is there in the real state the words are out.
  pub departed_ghost : AllOut s.heap → (o : Id) (x : Object) → HasDeparted v.heap o x → ghosts o ≡ true
  departed_ghost out o x h = by (ghosts o) refl
    where
      by : (b : Bool) → ghosts o ≡ b → ghosts o ≡ true
      by true is = is
      by false is = let never = out o x (sym (seen_at o is) ∙ h.found) h.there in let back = h.back in absurd (cc (never, back))

  -- So it is of a type of these, with its home in that item or a newer one.
  pub departed_of : AllOut s.heap → (o : Id) (x : Object) → HasDeparted v.heap o x → (has_gone types x.cell.access ≡ true) × (item ≤ x.cell.home.item)
  departed_of out o x h =
      let d = seen.departed o (departed_ghost out o x h) in
      let found = h.found in
      let same : revived d.object ≡ x = cc (d.is, found) in
      let cell : d.object.cell ≡ x.cell = ap (λ (z : Object). z.cell) same in
      (subst (λ (c : Cell Value). has_gone types c.access ≡ true) cell d.of_type, subst (λ (c : Cell Value). item ≤ c.home.item) cell d.newer)

  -- What exists in the real state is no ghost, nor is what has words out there.
  pub existing_plain : (o : Id) (x : Object) → object_at s.heap o ≡ Some x → is_there x.stage ≡ true → ghosts o ≡ false
  existing_plain o x found there = by (ghosts o) refl
    where
      by : (b : Bool) → ghosts o ≡ b → ghosts o ≡ false
      by true is =
          let d = seen.departed o is in
          let same : d.object ≡ x = cc (d.there, found) in
          let gone : x.stage ≡ Gone = rw same at (d.gone) in
          let nowhere : is_there Gone ≡ true = rw gone at there in
          absurd (cc nowhere)
      by false is = is

  pub out_plain : (o : Id) (x : Object) → object_at s.heap o ≡ Some x → x.out ≡ true → ghosts o ≡ false
  out_plain o x found out = by (ghosts o) refl
    where
      by : (b : Bool) → ghosts o ≡ b → ghosts o ≡ false
      by true is = let d = seen.departed o is in let same : d.object ≡ x = cc (d.there, found) in let never = rw same at (d.back) in absurd (cc (never, out))
      by false is = is

  -- Words that are back in this state are back in the real one.
  pub seen_back : (o : Id) → BackIn v.heap o → BackIn s.heap o
  seen_back o back = by (ghosts o) refl
    where
      by : (b : Bool) → ghosts o ≡ b → BackIn s.heap o
      by true is = let d = seen.departed o is in (d.object, d.there, d.back)
      by false is = (back.0, sym (seen_at o is) ∙ back.1, back.2)

  -- Objects are stored in the real state as in this one: ghosts have gone there.
  pub seen_stored : {under : List Id} {masters : List Master} → Stored under v.heap masters → Stored under s.heap masters
  seen_stored {under} {masters} stored = record { counted = stored.counted; sane = λ o x found. by o x found (ghosts o) refl }
    where
      by : (o : Id) (x : Object) → object_at s.heap o ≡ Some x → (b : Bool) → ghosts o ≡ b → Sane under (items_of masters) o x
      by o x found true is =
          let d = seen.departed o is in
          let same : d.object ≡ x = cc (d.there, found) in
          let gone : x.stage ≡ Gone = rw same at (d.gone) in
          let unlisted : x.listed ≡ false = rw same at (d.unlisted) in
          let back : x.out ≡ false = rw same at (d.back) in
          record {
            back_unlisted = λ e. unlisted;
            listed_exists = λ e. absurd (cc (e, unlisted));
            there_exists = λ e. let nowhere : is_there Gone ≡ true = rw gone at e in absurd (cc nowhere);
            housed = λ e. absurd (cc (e, back));
            out_listed = λ e. absurd (cc (e, back));
          }
      by o x found false is = stored.sane o x (seen_at o is ∙ found)

-- A run ends as well where the real state is, as long as some master is there.
pub seen_ends : {types : List ℕ} {item : ℕ} {ghosts : Id → Bool} {s v : State} → Seen types item ghosts s v → (halt : Halt) (m : Master) (ms : List Master) → v.masters ≡ m ∷ ms
    → EndsWell halt v.heap v.masters → EndsWell halt s.heap s.masters
seen_ends seen Finished m ms is ends = let none = rw is at (ends.1) in absurd none
seen_ends seen (Unhandled e) m ms is ends = let none = rw is at (ends.1) in absurd none
seen_ends seen (Escaped e) m ms is ends = ends
seen_ends seen (Erroneous why) m ms is ends = ends
seen_ends seen Stuck m ms is ends = tt
seen_ends seen Memory m ms is ends = tt

-- One step of both.
module _ {types : List ℕ} {item : ℕ} {ghosts : Id → Bool} {s v after view : State} (seen : Seen types item ghosts s v) where
  -- Where ghosts stay, and all else goes on alike, the one state stands for the other one still.
  pub seen_on : GhostsStay ghosts s.heap after.heap → GhostsStay ghosts v.heap view.heap → StatesAlike none_hidden ghosts after view → Seen types item ghosts after view
  seen_on stay stay_too alike = record {
    alike = alike;
    departed = λ o is. let d = seen.departed o is in record {
      object = d.object;
      there = stay o is ∙ d.there;
      gone = d.gone;
      unlisted = d.unlisted;
      back = d.back;
      of_type = d.of_type;
      newer = d.newer;
      is = stay_too o is ∙ d.is;
    };
  }

  module _ (seen_after : Seen types item ghosts after view) where
    -- What the step does to objects of the one, it does to those of the other.
    pub seen_alters : (e : Event) → Alters v.heap e view.heap → GhostsStay ghosts s.heap after.heap → Alters s.heap e after.heap
    seen_alters e alters stay = record { kept = λ o x found. kept o x found (ghosts o) refl; told = λ o y found back. told o y found back (ghosts o) refl }
      where
        kept : (o : Id) (x : Object) → object_at s.heap o ≡ Some x → (b : Bool) → ghosts o ≡ b → (y : Object) × (object_at after.heap o ≡ Some y) × StaysItself x y × (x.out ≡ false → y.out ≡ false)
        kept o x found true is = (x, stay o is ∙ found, (refl, refl, refl), λ h. h)
        kept o x found false is = let h = alters.kept o x (seen_at seen o is ∙ found) in (h.0, sym (seen_at seen_after o is) ∙ h.1, h.2, h.3)

        told : (o : Id) (y : Object) → object_at after.heap o ≡ Some y → y.out ≡ false → (b : Bool) → ghosts o ≡ b → BackIn s.heap o ⊎ GivesBackOf o e
        told o y found back true is = inl (y, sym (stay o is) ∙ found, back)
        told o y found back false is = elim (alters.told o y (seen_at seen_after o is ∙ found) back) [ inl h ↦ inl (seen_back seen o h) | inr h ↦ inr h ]

    -- The words of an object that is no ghost go back in the one as in the other.
    goes_back : (implicit : Implicit) (p : ProgramForm) (cause : Cause) (w : Value) (t number : ℕ) (from subpool : Option ℕ) → is_ghost ghosts w ≡ false
        → GoesBack implicit p cause w t number from subpool v.heap view → GoesBack implicit p cause w t number from subpool s.heap after
    goes_back implicit p cause w t number from subpool plain g =
        let is_plain : ghosts g.id ≡ false = rw (g.is) at plain in
        record {
          id = g.id;
          object = g.object;
          is = g.is;
          found = sym (seen_at seen g.id is_plain) ∙ g.found;
          out = g.out;
          of_type = g.of_type;
          numbered = g.numbered;
          to_pool = g.to_pool;
          to_subpool = g.to_subpool;
          home = g.home;
          covered = g.covered;
          back = seen_back seen_after g.id g.back;
        }

    -- An object that is no ghost is followed in the one as in the other.
    is_followed : (w : Value) → is_ghost ghosts w ≡ false → IsFollowed w v.heap → IsFollowed w s.heap
    is_followed w plain f =
        let is_plain : ghosts f.id ≡ false = rw (f.is) at plain in
        record { id = f.id; object = f.object; is = f.is; found = sym (seen_at seen f.id is_plain) ∙ f.found; there = f.there }

    -- What an event says of the one, it says of the other, where it spares ghosts.
    pub seen_says : (implicit : Implicit) (p : ProgramForm) (e : Event) → SparesGhosts ghosts e → Says implicit p e v.heap view → Says implicit p e s.heap after
    seen_says implicit p (Born object part turn type number by) spares says = tt
    seen_says implicit p (Finalized object part turn type number cause) spares says = tt
    seen_says implicit p (Back object t number from subpool cause) spares says = goes_back implicit p cause object t number from subpool spares says
    seen_says implicit p (Followed object) spares says = is_followed object spares says
    seen_says implicit p (Left master) spares says = tt
    seen_says implicit p (Line line) spares says = tt
    seen_says implicit p Quiet spares says = tt

-- Where an item is given that is not newer, the state stands for the real one, too.
pub seen_lower : {types : List ℕ} {item item' : ℕ} {ghosts : Id → Bool} {s v : State} → Seen types item ghosts s v → item' ≤ item → Seen types item' ghosts s v
seen_lower seen lower = record {
  alike = seen.alike;
  departed = λ o is. let d = seen.departed o is in let newer = d.newer in record {
    object = d.object;
    there = d.there;
    gone = d.gone;
    unlisted = d.unlisted;
    back = d.back;
    of_type = d.of_type;
    newer = omega (arith, lower, newer);
    is = d.is;
  };
}

-- A type is among these and others, and so are those that were among them.
pub has_gone_here : (t : ℕ) (types : List ℕ) → has_gone (t ∷ types) t ≡ true
has_gone_here t types = rw (eq-eqb t t refl) refl

pub has_gone_more : (u t : ℕ) (types : List ℕ) → has_gone types t ≡ true → has_gone (u ∷ types) t ≡ true
has_gone_more u t types gone = subst (λ (b : Bool). (is_this u (Some t) || b) ≡ true) (sym gone) (or_true (is_this u (Some t)))

-- What is among them is that one, or was among the others.
pub has_gone_either : (u t : ℕ) (types : List ℕ) → has_gone (u ∷ types) t ≡ true → (t ≡ u) ⊎ (has_gone types t ≡ true)
has_gone_either u t types gone = by (t == u) refl gone
  where
    by : (b : Bool) → (t == u) ≡ b → (b || is_among types (Some t)) ≡ true → (t ≡ u) ⊎ (has_gone types t ≡ true)
    by true is h = inl (eqb-true t u is)
    by false is h = inr h

-- Those that were ghosts, and one more.
abbrev pub with_ghost : (ghosts : Id → Bool) → Id → Id → Bool
with_ghost ghosts o p = ghosts p || (p.0 == o.0)

-- An object that has been finalized, once it is gone and its words are back; and as if it existed still.
abbrev pub has_left : Object → Object
has_left x = returned (finished x)

abbrev pub stays_on : Object → Object
stays_on x = revived (has_left x)

-- One ghost more: an object has ended whose home is that item or a newer one, and its words are back; its type is one of those then.
module _ {types : List ℕ} {item : ℕ} {ghosts : Id → Bool} {s v : State} (seen : Seen types item ghosts s v) (o : Id) (x : Object) (found : object_at s.heap o ≡ Some x)
    (access : ℕ) (of_access : x.cell.access ≡ access) (newer : item ≤ x.cell.home.item) where
  -- The objects once it is gone and its words are back, and as if it existed still.
  abbrev pub less_one : List Object
  less_one = slice_set s.heap o.0 (has_left x)

  abbrev pub still_one : List Object
  still_one = slice_set v.heap o.0 (stays_on x)

  -- That one is a ghost then; and of the others those are that were ghosts.
  is_one : (p : Id) → p.0 ≡ o.0 → with_ghost ghosts o p ≡ true
  is_one p same = rw (eq-eqb p.0 o.0 same) (or_true (ghosts p))

  is_other : (p : Id) → p.0 ≢ o.0 → with_ghost ghosts o p ≡ ghosts p
  is_other p ne = rw (differ p.0 o.0 ne) (or_false (ghosts p))

  -- The object is there in both.
  found_there : (y : Object) × (object_at v.heap o ≡ Some y) × (y.cell ≡ x.cell)
  found_there = seen_there seen o x found

  -- Objects are alike, but for that ghost, too.
  objects_alike : (p : Id) → (p.0 ≡ o.0) ⊎ (p.0 ≢ o.0) → FoundAlike (none_hidden p) (with_ghost ghosts o p) (object_at less_one p) (object_at still_one p)
  objects_alike p (inl same) =
      let here : object_at less_one p ≡ Some (has_left x) = rw same (set_here s.heap o.0 x (has_left x) found) in
      let there : object_at still_one p ≡ Some (stays_on x) = rw same (set_here v.heap o.0 found_there.0 (stays_on x) found_there.1) in
      subst (λ (ghost : Bool). FoundAlike (none_hidden p) ghost (object_at less_one p) (object_at still_one p)) (sym (is_one p same))
      (subst (λ (a : Option Object). FoundAlike (none_hidden p) true a (object_at still_one p)) (sym here)
      (subst (λ (b : Option Object). FoundAlike (none_hidden p) true (Some (has_left x)) b) (sym there)
      (record { values = record { count = refl; values = λ c shown. refl }; cell = refl; listed = refl; life = tt })))
  objects_alike p (inr ne) =
      subst (λ (ghost : Bool). FoundAlike (none_hidden p) ghost (object_at less_one p) (object_at still_one p)) (sym (is_other p ne))
      (subst (λ (a : Option Object). FoundAlike (none_hidden p) (ghosts p) a (object_at still_one p)) (sym (set_other s.heap o.0 p.0 (has_left x) ne))
      (subst (λ (b : Option Object). FoundAlike (none_hidden p) (ghosts p) (object_at s.heap p) b) (sym (set_other v.heap o.0 p.0 (stays_on x) ne)) (seen.alike.heaps.objects p)))

  -- It has departed, as the others have.
  departed_with : (p : Id) → (p.0 ≡ o.0) ⊎ (p.0 ≢ o.0) → with_ghost ghosts o p ≡ true → IsDeparted (access ∷ types) item (object_at less_one p) (object_at still_one p)
  departed_with p (inl same) is = record {
    object = has_left x;
    there = rw same (set_here s.heap o.0 x (has_left x) found);
    gone = refl;
    unlisted = refl;
    back = refl;
    of_type = subst (λ (t : ℕ). has_gone (access ∷ types) t ≡ true) (sym of_access) (has_gone_here access types);
    newer = newer;
    is = rw same (set_here v.heap o.0 found_there.0 (stays_on x) found_there.1);
  }
  departed_with p (inr ne) is = let d = seen.departed p (sym (is_other p ne) ∙ is) in record {
    object = d.object;
    there = set_other s.heap o.0 p.0 (has_left x) ne ∙ d.there;
    gone = d.gone;
    unlisted = d.unlisted;
    back = d.back;
    of_type = has_gone_more access d.object.cell.access types d.of_type;
    newer = d.newer;
    is = set_other v.heap o.0 p.0 (stays_on x) ne ∙ d.is;
  }

  -- The state that stands for the real one, in which it exists still, stands for the one behind that; whatever comes next there.
  pub seen_more : (k : List (Frame Value)) → Seen (access ∷ types) item (with_ghost ghosts o) (record s { heap = less_one; control = k }) (record v { heap = still_one; control = k })
  seen_more k = record {
    alike = record {
      rest = ap (λ (z : State). record z { heap = still_one; control = k }) (seen.alike.rest);
      heaps = record {
        count = length-set s.heap o.0 (has_left x) ∙ seen.alike.heaps.count ∙ sym (length-set v.heap o.0 (stays_on x));
        objects = λ p. objects_alike p (same_or_not p.0 o.0);
      };
    };
    departed = λ p is. departed_with p (same_or_not p.0 o.0) is;
  }

  -- So it is where it has ended first, and then its words have gone back.
  pub seen_ended : (k : List (Frame Value)) → Seen (access ∷ types) item (with_ghost ghosts o) (record s { heap = slice_set (slice_set s.heap o.0 (finished x)) o.0 (has_left x); control = k }) (record v { heap = still_one; control = k })
  seen_ended k =
      subst (λ (heap : List Object). Seen (access ∷ types) item (with_ghost ghosts o) (record s { heap = heap; control = k }) (record v { heap = still_one; control = k })) (sym (set_twice s.heap o.0 (finished x) (has_left x)))
      (seen_more k)
