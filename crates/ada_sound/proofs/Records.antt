-- Record objects are declared: each is stored at its own item, and its variable owns it.

use Rattle.std.proofs.Common.{◌≡◌, ℕ, zero, suc, Bool, true, false, ◌&&◌, ◌||◌, List, [], ◌∷◌, length, take, drop, reverse, map, refl, sym, ap, subst, ◌∙◌, ◌⊎◌, inl, inr, ◌≢◌}
use Rattle.std.proofs.lemmas.Bool.{eqb-true}
use Rattle.std.specs.Prelude.{Option, Some, None}
use Rattle.std.specs.List.{list_any, slice_get, slice_index_or, slice_set}
use Rattle.ada_program.specs.declared.program.ComponentKind.{ComponentKind}
use Rattle.ada_program.specs.declared.program.ComponentKind.TheVariants as component
use Rattle.ada_parts.specs.declared.tasks.Direction.TheVariants.{PartsFirst}
use Rattle.ada_parts.specs.Task.{Task}
use Rattle.ada_program.specs.Controlled.{shapes_of}
use Rattle.ada_program.specs.declared.program.TypeDefinition.{TypeDefinition}
use Rattle.ada_program.specs.declared.program.VariableKind.{VariableKind}
use Rattle.ada_program.specs.declared.program.VariableKind.TheVariants as variable
use Rattle.ada_program.specs.Form.{ItemForm, StmtsForm, HandlersForm, DeclarationForm, declares_record}
use Rattle.ada_program.specs.declared.program.Exception.{Exception}
use Rattle.ada_program.specs.declared.program.Exception.TheVariants.{ConstraintError}
use Rattle.ada_program.specs.Handling.{is_same}
use Rattle.ada_program.specs.ProgramForm.{TypeForm, VariableForm}
use Rattle.ada_effects.specs.Effects.{items_raise, initial_raises, initial_starts, initial_frees, declaration_raises}
use Rattle.ada_program.specs.Typed.{reached_of, count_of, words_of}
use Rattle.ada_program.specs.declared.program.Finalization.{Finalization}
use Rattle.ada_program.specs.WellFormed.{finalization_of, named_in, object_named, access_of, held_kind, kind_among, reached_components, variable_kind, is_record_object}
use Rattle.ada_flow.specs.declared.rule.Hold.{Hold}
use Rattle.ada_flow.specs.declared.rule.Hold.TheVariants as hold
use Rattle.ada_flow.specs.declared.rule.Region.TheVariants.{Whole}
use Rattle.ada_flow.specs.Flow.{Holds, without_freed, Gone, is_among, variable_access, is_owning, gathers_at_first, declared_at, copies_to, uses_in_items, using_paths, ends_with}
use Rattle.ada_flow.specs.Tracking.{no_tracks}
use Rattle.ada_meaning.specs.declared.state.Id.{Id}
use Rattle.ada_meaning.specs.declared.state.Value.{Value}
use Rattle.ada_meaning.specs.declared.state.Value.TheVariants.{Null, Names}
use Rattle.ada_meaning.specs.Event.{Quiet}
use Rattle.ada_meaning.specs.declared.event.Birth.TheVariants.{Creation, Copy}
use Rattle.ada_meaning.specs.declared.state.Mode.TheVariants.{Running}
use Rattle.ada_meaning.specs.Heap.{Cell}
use Rattle.ada_meaning.specs.Frame.{Elaborates, Handles, Closes, Fills, DeclaresRecord, begins}
use Rattle.ada_meaning.specs.State.{Activation, record_object, Master, height}
use Rattle.ada_meaning.specs.Step.{all_tasks, tasks_for, treating, owning, made, record_next, record_cell, initial_value, initial_values}
use Rattle.ada_meaning.specs.Named.{Object, State, named, new_object, create, created}
use Rattle.ada_meaning.specs.Law.{items_of}
use Rattle.ada_owners.specs.Places.{Place, variable, component, elsewhere, value_at}
use Rattle.ada_owners.specs.Reliance.{Owns, Borrows, AreInHand}
use Rattle.ada_owners.proofs.Kernel as kernel
use Rattle.ada_owners.proofs.Kernel.{blank, same_place}
use Rattle.ada_owners.proofs.Objects.{next_id, read_other}
use Rattle.ada_owners.proofs.Changes.{put_reads}
use Rattle.ada_owners.proofs.Creations.{not_next, past_access}
use Rattle.ada_owners.proofs.Ends.{IsUnnamed}
use Rattle.ada_typed.proofs.OfKinds.{record_initial_is_of_kind}
use Rattle.ada_sound.proofs.Objects.{get_new, set_twice}
use Rattle.ada_sound.proofs.Items.{HasItem}
use Rattle.ada_sound.proofs.Stored.{Stored, stored_new, stored_owning}
use Rattle.ada_typed.specs.Holding.{Cells, HasKind, HaveKinds, cells_of}
use Rattle.ada_typed.proofs.Values.{OperandKind, AreComputed, AreHeld, active_placed}
use Rattle.ada_typed.proofs.Control as typed
use Rattle.ada_typed.proofs.Parts.{shown_number}
use Rattle.ada_sound.proofs.Fits.{Outsiders, Fit, Hand, IsUnreferred, outer_access, bare, stacked, none_spared, place_at, hold_in, weaker_fit, put_lost, put_owner, create_fit, hand_is_unnamed, less_unnamed}
use Rattle.ada_sound.proofs.Alters.{alters_new}
use Rattle.ada_sound.proofs.Invariant.{outers, below, AdjustsFirst, AdjustsWell, IsPlainFirst, Known, Control, Rooms, Roomed, To, Raised, Doing, Handled, Outside, Elaborating, Giving, MayOwn, InitialTo, Recording, ReadyIn, RunsOn, StartsTo, Spares, Unaliased, IsAside, IsOut, Beginning, Working, Stepped, Fine, ways}
use Rattle.ada_sound.proofs.Ready.{running, at_work, runs_ready, treats_ready, ready_on}
use Rattle.ada_sound.proofs.Outcomes.{before_lost, goes_map, to_before, raised_before, using_goes, ends_goes, loses_goes}
use Rattle.ada_sound.proofs.Raising.{or_left, or_right, any_more}
use Rattle.ada_sound.proofs.Values.{lost_here}
use Rattle.ada_sound.proofs.Orderings.{AsGood, good_losing, good_to_lost, without_freed_good}
use Rattle.ada_flow.specs.Flow.{left_finalized}
use Rattle.ada_sound.proofs.LeftFinalized.{finalized_losing, freed_apart, freed_none}
use Rattle.ada_sound.proofs.Undone.{beginning_undone, new_is_out}
use Rattle.ada_sound.proofs.Followings.{first_kept}
use Rattle.ada_sound.proofs.Copied.{IsCopy, items_keep, copied_plain, copied_whole, may_copy}
use Rattle.ada_sound.proofs.Defaults.{Reaches}
use Rattle.ada_sound.proofs.Gathered.{gathered_first_well}
use Rattle.ada_sound.proofs.CopiedOwners.{CopiesWell}

-- What a component holds at first names nothing.
first_blank : (kind : ComponentKind) (o : Id) → initial_value named kind ≡ Names o → ⊥
first_blank (component.Integer initial) o e = cc e
first_blank (component.Boolean initial) o e = cc e
first_blank (component.Access access) o e = cc e

blanks_in_hand : (outer : Outsiders) (heap : List Object) (places : List Value) (holding : Place → Hold) (kind : ℕ → Option ℕ) (c : ℕ) (kinds : List ComponentKind) → AreInHand heap (stacked places outer) holding kind c (map (initial_value named) kinds)
blanks_in_hand outer heap places holding kind c [] = tt
blanks_in_hand outer heap places holding kind c (one ∷ kinds) =
    (record { hand = blank (first_blank one) }, (λ o i e f. first_blank one o e), blanks_in_hand outer heap places holding kind (suc c) kinds)

initials_in_hand : (outer : Outsiders) (heap : List Object) (places : List Value) (holding : Place → Hold) (kind : ℕ → Option ℕ) (found : Option (List ComponentKind)) → AreInHand heap (stacked places outer) holding kind 0 (initial_values named found)
initials_in_hand outer heap places holding kind None = tt
initials_in_hand outer heap places holding kind (Some kinds) = blanks_in_hand outer heap places holding kind 0 kinds

-- A record object is known by this type.
pub record_access : (k : Option VariableKind) (t : ℕ) → is_record_object t k ≡ true → access_of k ≡ Some t
record_access None t e = absurd (cc e)
record_access (Some variable.Integer) t e = absurd (cc e)
record_access (Some variable.Boolean) t e = absurd (cc e)
record_access (Some (variable.Access access)) t e = absurd (cc e)
record_access (Some (variable.Record object)) t e = ap Some (eqb-true object.0 t e)

-- A place that is there holds what it gets.
put_there : (places : List Value) (x : ℕ) (u v : Value) → slice_get places x ≡ Some u → place_at (slice_set places x v) x ≡ v
put_there [] x u v e = absurd (cc e)
put_there (w ∷ places) zero u v e = refl
put_there (w ∷ places) (suc x) u v e = put_there places x u v e

-- Values of Integers and Booleans name nothing.
neither : (a b : Bool) → (a || b) ≡ false → (a ≡ false) × (b ≡ false)
neither true b e = absurd (cc e)
neither false b e = (refl, e)

pub plain_blank : (types : List TypeForm) (cells : Cells) (kind : ComponentKind) (v : Value) → is_owning kind ≡ false → HasKind types cells (held_kind kind) v → (o : Id) → v ≡ Names o → ⊥
plain_blank types cells (component.Integer initial) v plain has o is = rw is at has
plain_blank types cells (component.Boolean initial) v plain has o is = rw is at has
plain_blank types cells (component.Access access) v plain has o is = cc plain

abbrev pub NameNothing : List Value → Type 0
NameNothing [] = Unit {0}
NameNothing (v ∷ vs) = ((o : Id) → v ≡ Names o → ⊥) × NameNothing vs

pub plain_names_nothing : (types : List TypeForm) (cells : Cells) (kinds : List ComponentKind) (vs : List Value) → list_any is_owning kinds ≡ false → HaveKinds types cells kinds vs → NameNothing vs
plain_names_nothing types cells kinds [] plain have = tt
plain_names_nothing types cells [] (v ∷ vs) plain have = absurd have
plain_names_nothing types cells (kind ∷ kinds) (v ∷ vs) plain have =
    let two = neither (is_owning kind) (list_any is_owning kinds) plain in
    (plain_blank types cells kind v two.0 have.0, plain_names_nothing types cells kinds vs two.1 have.1)

pub nothing_in_hand : (outer : Outsiders) (heap : List Object) (places : List Value) (holding : Place → Hold) (kind : ℕ → Option ℕ) (c : ℕ) (vs : List Value) → NameNothing vs → AreInHand heap (stacked places outer) holding kind c vs
nothing_in_hand outer heap places holding kind c [] none = tt
nothing_in_hand outer heap places holding kind c (v ∷ vs) none =
    (record { hand = blank none.0 }, (λ o i e f. none.0 o e), nothing_in_hand outer heap places holding kind (suc c) vs none.1)

-- The variable of a record object has a place.
pub has_place : (types : List TypeForm) (cells : Cells) (variables : List VariableForm) (places : List Value) (x t : ℕ) → AreHeld types cells variables places → is_record_object t (variable_kind variables x) ≡ true → (u : Value) × (slice_get places x ≡ Some u)
has_place types cells variables places x t held is = by (variable_kind variables x) refl is
  where
    by : (kind : Option VariableKind) → variable_kind variables x ≡ kind → is_record_object t kind ≡ true → (u : Value) × (slice_get places x ≡ Some u)
    by None of e = absurd (cc e)
    by (Some kind) of e = (slice_index_or places x Null, active_placed types cells variables [] (bare places ∷ []) x kind (held, tt) of)

-- The type of an object whose initial value is written is not limited, where it has controlled parts.
initial_copies : (types : List TypeForm) (variables : List VariableForm) (t : ℕ) (items : List ItemForm) (r : ℕ) (f : Finalization) → named_in (slice_get types t) ≡ Some r → finalization_of types r ≡ Some f → record_initial_is_of_kind types variables (object_named types (Some t)) (Some items) ≡ true → f.limited ≡ false
initial_copies types variables t items r f named found fits =
    let own : record_initial_is_of_kind types variables (Some r) (Some items) ≡ true = rw named at fits in
    may_copy types variables r items own f found

-- Such a value is a copy.
initial_whole : (types : List TypeForm) (variables : List VariableForm) (t : ℕ) (items : List ItemForm) (r of : ℕ) → named_in (slice_get types t) ≡ Some r → shown_number types (Some r) ≡ Some of → record_initial_is_of_kind types variables (object_named types (Some t)) (Some items) ≡ true → IsCopy r items
initial_whole types variables t items r of named numbered fits =
    let own : record_initial_is_of_kind types variables (Some r) (Some items) ≡ true = rw named at fits in
    copied_whole types variables r of items numbered own

-- No place that is relied on names a new object, and no call refers to it.
module _ {types : List TypeForm} {variables : List VariableForm} {outer : Outsiders} {heap : List Object} {places : List Value} {holds : Holds} (words : ℕ) (cell : Cell Value) (f : Fit types variables outer none_spared heap places holds) where
  new_borrows : (q : Place) → Borrows (hold_in outer none_spared holds q) → value_at (create heap words cell) (stacked places outer) q ≡ Names (next_id heap) → ⊥
  new_borrows (variable y) b e =
      not_next heap words cell (variable_access variables y) (kernel.right_at f.owners.fit (variable y) (λ lost. (let none : Borrows hold.Lost = rw lost at b in absurd none)) (next_id heap) e)
  new_borrows (component o c) b e = absurd b
  new_borrows (elsewhere d y) b e =
      not_next heap words cell (outer_access (slice_get outer.suspended d) y) (kernel.right_at f.owners.fit (elsewhere d y) (λ lost. (let none : Borrows hold.Lost = rw lost at b in absurd none)) (next_id heap) e)

  pub new_unnamed : Hand types variables outer none_spared (create heap words cell) places holds (Some cell.access) (created heap words) → IsUnnamed (create heap words cell) (stacked places outer) (hold_in outer none_spared holds) (next_id heap)
  new_unnamed hand = hand_is_unnamed outer types variables none_spared (create heap words cell) places holds (Some cell.access) (next_id heap) hand new_borrows

  pub new_unreferred : IsUnreferred outer (next_id heap)
  new_unreferred t refers = let at = f.referred (next_id heap) t refers in let past = past_access heap words cell in cc (at, past)

-- Nor does one where a variable gets its name, on which nothing relies.
put_unnamed : {heap : List Object} {places : List Value} (outer : Outsiders) (holds : Holds) (x : ℕ) (v : Value) (o : Id) → IsUnnamed heap (stacked places outer) (hold_in outer none_spared holds) o → IsUnnamed heap (stacked (slice_set places x v) outer) (hold_in outer none_spared (slice_set holds x hold.Lost)) o
put_unnamed {heap} {places} outer holds x v o none = record {
  unowned = λ q own e. unowned q (same_place q (variable x)) own e;
  unborrowed = λ q b e. unborrowed q (same_place q (variable x)) b e;
}
  where
    others : (q : Place) → q ≢ variable x → hold_in outer none_spared (slice_set holds x hold.Lost) q ≡ hold_in outer none_spared holds q
    others (variable y) ne = read_other holds x y hold.Lost hold.Lost (λ e. ne (ap variable e))
    others (component p c) ne = refl
    others (elsewhere d y) ne = refl

    unowned : (q : Place) → (q ≡ variable x) ⊎ (q ≢ variable x) → Owns (hold_in outer none_spared (slice_set holds x hold.Lost) q) → value_at heap (stacked (slice_set places x v) outer) q ≡ Names o → ⊥
    unowned q (inl is) own e = let none : Owns hold.Lost = rw (is, lost_here holds x) at own in absurd none
    unowned q (inr ne) own e = none.unowned q (rw (others q ne) at own) (sym (put_reads heap (stacked places outer) x v q ne) ∙ e)

    unborrowed : (q : Place) → (q ≡ variable x) ⊎ (q ≢ variable x) → Borrows (hold_in outer none_spared (slice_set holds x hold.Lost) q) → value_at heap (stacked (slice_set places x v) outer) q ≡ Names o → ⊥
    unborrowed q (inl is) b e = let none : Borrows hold.Lost = rw (is, lost_here holds x) at b in absurd none
    unborrowed q (inr ne) b e = none.unborrowed q (rw (others q ne) at b) (sym (put_reads heap (stacked places outer) x v q ne) ∙ e)

module _ (known : Known) (rest : List (Activation Value)) (s : State) (types : List TypeDefinition) (x t : ℕ) where
  -- The new item is the object's home, and is one that the master may own.
  has_own : (under ms : List Master) (rooms : Rooms) → Roomed under ms rooms → MayOwn rooms t → HasItem (height ms) t None (items_of (owning (record { number = height ms; owned = record_object t }) ms))
  has_own under ms [] r e = absurd e
  has_own under [] (gone ∷ rooms) r e = absurd r
  has_own under (m ∷ ms) (gone ∷ rooms) r e = inl (refl, (refl, refl))

  roomed_more : (item : ℕ) (under ms : List Master) (rooms : Rooms) → Roomed under ms rooms → MayOwn rooms t → Roomed under (owning (record { number = item; owned = record_object t }) ms) rooms
  roomed_more item under ms [] r e = absurd e
  roomed_more item under [] (gone ∷ rooms) r e = absurd r
  roomed_more item under (m ∷ ms) (gone ∷ rooms) r e = ((e, r.0), r.1)

  -- It is initialized (3.3.1, 7.6): less may be known behind that, where it frees objects; what comes out of it passes the frames, where its variable is lost; and
  -- of what it may free there is no alias.
  pub record Initializing (k : Control) (rooms : Rooms) (holds : Holds) : Type 0 where
    pub owns : MayOwn rooms t
    pub after : Holds
    pub good : AsGood (slice_set holds x (hold.Own Whole)) after
    pub runs : RunsOn known k rooms after
    pub undone : StartsTo known t k rooms (slice_set after x hold.Lost)
    pub spares : Spares known (known.implicit.start_frees t)
    pub unaliased : Unaliased known.program.variables (known.implicit.start_frees t) after

  -- What is copied is never undone: what is behind goes on, and of what its adjustment may free there is no alias.
  abbrev pub Copying : Control → Rooms → Holds → Type 0
  Copying k rooms holds = MayOwn rooms t × To (λ less. RunsOn known k rooms less × AdjustsWell known t less) (slice_set holds x (hold.Own Whole))

  -- An object comes to be whose components name nothing, and its variable owns it.
  module _ (a : Activation Value) (k : Control) (values : List Value) (u : Value) (is : is_record_object t (variable_kind known.program.variables x) ≡ true) (there : slice_get a.places x ≡ Some u) (in_hand : (holding : Place → Hold) (kind : ℕ → Option ℕ) → AreInHand s.heap (stacked a.places (outers known)) holding kind 0 values) where
    abbrev words : ℕ
    words = words_of types t

    abbrev cell : Cell Value
    cell = record_cell named types t (height s.masters) values

    abbrev heap : List Object
    heap = create s.heap words cell

    abbrev new : Value
    new = created s.heap words

    abbrev places : List Value
    places = slice_set a.places x new

    abbrev masters : List Master
    masters = owning (record { number = height s.masters; owned = record_object t }) s.masters

    module _ {more : Rooms → Holds → Type 0} (w : Working known s.heap a.places s.masters more) (owns : MayOwn w.rooms t) where
      made_both : Fit known.program.types known.program.variables (outers known) none_spared heap a.places w.holds × Hand known.program.types known.program.variables (outers known) none_spared heap a.places w.holds (Some t) new
      made_both =
          let kinds = λ (c : ℕ). access_of (kind_among (reached_components known.program.types t) c) in
          create_fit words cell (in_hand (hold_in (outers known) none_spared w.holds) kinds) w.fit

      made_stored : Stored (outers known).under heap masters
      made_stored = stored_new cell (has_own (below known) s.masters w.rooms w.roomed owns) (stored_owning (record_object t) w.stored)

      made_roomed : Roomed (below known) masters w.rooms
      made_roomed = roomed_more (height s.masters) (below known) s.masters w.rooms w.roomed owns

      made_fit : (after : Holds) → AsGood (slice_set w.holds x (hold.Own Whole)) after → Fit known.program.types known.program.variables (outers known) none_spared heap places after
      made_fit after good =
          let own : variable_access known.program.variables x ≡ Some t = record_access (variable_kind known.program.variables x) t is in
          let placed = put_there a.places x u new there in
          weaker_fit after good (put_owner x new Whole tt (rw placed tt) (rw own made_both.1) made_both.0)

      -- Where its variable is lost, nothing relies on it.
      lost_good : (after : Holds) → AsGood (slice_set w.holds x (hold.Own Whole)) after → AsGood (slice_set w.holds x hold.Lost) (slice_set after x hold.Lost)
      lost_good after good =
          let owned = slice_set w.holds x (hold.Own Whole) in
          let other = slice_set after x hold.Lost in
          rw (set_twice w.holds x (hold.Own Whole) hold.Lost) at (good_losing x owned other (lost_here after x) (good_to_lost x owned after good))

      made_aside : (after : Holds) → AsGood (slice_set w.holds x (hold.Own Whole)) after → IsAside known none_spared heap places (slice_set after x hold.Lost) (Some (next_id s.heap))
      made_aside after good =
          let unnamed = new_unnamed words cell w.fit made_both.1 in (
            less_unnamed (slice_set after x hold.Lost) (lost_good after good) (next_id s.heap) (put_lost x new made_both.0) (put_unnamed (outers known) w.holds x new (next_id s.heap) unnamed),
            new_unreferred words cell w.fit,
          )

      pub made_works : {other : Rooms → Holds → Type 0} → To (other w.rooms) (slice_set w.holds x (hold.Own Whole)) → Working known heap places masters other
      made_works runs = record { rooms = w.rooms; holds = runs.0; stored = made_stored; roomed = made_roomed; fit = made_fit runs.0 runs.1; rest = runs.2 }

    -- Where it is no copy, its controlled parts are initialized.
    made_begins : Working known s.heap a.places s.masters (Initializing k) → Beginning known new k heap places masters
    made_begins w =
        let i = w.rest in
        record {
          o = next_id s.heap;
          object = new_object cell;
          is = refl;
          found = get_new s.heap (new_object cell);
          x = x;
          rooms = w.rooms;
          holds = i.after;
          stored = made_stored w i.owns;
          roomed = made_roomed w i.owns;
          fit = made_fit w i.owns i.after i.good;
          aside = made_aside w i.owns i.after i.good;
          runs = i.runs;
          undone = i.undone;
          well = (i.spares, i.unaliased);
        }

    new_out : IsOut heap new
    new_out = new_is_out known s.heap words cell

    pub made_fine : Working known s.heap a.places s.masters (Initializing k) → Stepped known s.heap Quiet (made named types x t Creation values (running k a rest s))
    made_fine w =
        let b = made_begins w in
        record {
          ready = (tt, treats_ready known new (begins Creation []) (all_tasks types t PartsFirst) k heap places a.operands masters (inl b, (b.stored, beginning_undone known new k heap places masters b new_out, new_out)) tt);
          alters = alters_new s.heap Quiet (new_object cell) refl;
          says = tt;
        }

    -- A copy without controlled parts is not adjusted.
    pub made_plain : all_tasks types t PartsFirst ≡ [] → Working known s.heap a.places s.masters (Copying k) → Stepped known s.heap Quiet (made named types x t Copy values (running k a rest s))
    made_plain none w =
        let works = made_works w w.rest.0 {other = λ rooms less. RunsOn known k rooms less × AdjustsWell known t less} w.rest.1 in
        let next : ReadyIn known Running k heap places a.operands masters = runs_ready known k heap places a.operands masters (at_work works works.rest.0) in
        record {
          ready = (tt, subst (λ (tasks : List Task). ReadyIn known Running (treating new (begins Copy []) tasks k) heap places a.operands masters) (sym none) next);
          alters = alters_new s.heap Quiet (new_object cell) refl;
          says = tt;
        }

module _ (known : Known) (a : Activation Value) (rest : List (Activation Value)) (s : State) (types : List TypeDefinition) (x t : ℕ) (ds : List DeclarationForm) (fs : StmtsForm) (hs : HandlersForm) (k : Control) where
  -- What passes the frames with what was known before passes them also where the variable is lost, whose record object goes with the block.
  raised_losing : (gone : Gone) (rooms : Rooms) (e : Exception) (holds : Holds) → is_among gone.types (variable_access known.program.variables x) ≡ true → To ((Outside known gone (ways known k rooms)).raised e) holds → To ((Outside known gone (ways known k rooms)).raised e) (slice_set holds x hold.Lost)
  raised_losing gone rooms e holds among (less, good, (may_end, goes)) =
      let variables = known.program.variables in (
        slice_set less x hold.Lost,
        good_losing x holds (slice_set less x hold.Lost) (lost_here less x) (good_to_lost x holds less good),
        (
          may_end,
          to_before ((ways known k rooms).raised e) (left_finalized variables known.implicit gone (slice_set less x hold.Lost)) (left_finalized variables known.implicit gone less) (finalized_losing variables known.implicit gone less x among) goes,
        ),
      )

  -- What is known where a record object comes to be: without an initial value, or behind one.
  by_default : (holds : Holds) (rooms : Rooms) → is_record_object t (variable_kind known.program.variables x) ≡ true → RunsOn known (Elaborates (declares_record x t None ∷ ds) fs hs ∷ k) rooms holds → Initializing known rest s types x t (Elaborates ds fs hs ∷ k) rooms holds
  by_default holds [] is e = absurd e
  by_default holds (gone ∷ rooms) is e =
      let variables = known.program.variables in
      let o = Outside known gone (ways known k rooms) in
      let more = Elaborating known ds (Doing known fs (Handles hs ∷ Closes ∷ k) (Handled known hs (Closes ∷ k) o)) o in
      let among : Exception → Bool = λ e'. declaration_raises known.implicit (is_same e') (declares_record x t None) in
      let may = initial_raises None || initial_starts known.implicit (λ e'. true) t None in
      let frees : ℕ → Bool = λ u. initial_frees known.implicit u t None in
      let owned = slice_set holds x (hold.Own Whole) in
      let g = loses_goes variables frees (ends_with may holds owned) more (Raised among o) e.1.0 in
      let n = ends_goes may holds owned (λ h. more (without_freed variables frees h)) (λ h. Raised among o (without_freed variables frees h)) g in
      let among_gone : is_among gone.types (variable_access variables x) ≡ true = rw (record_access (variable_kind variables x) t is) e.0.0 in
      let lost : slice_set (without_freed variables frees owned) x hold.Lost ≡ slice_set (without_freed variables frees holds) x hold.Lost =
      sym (freed_apart frees variables owned x) ∙ (ap (without_freed variables frees) (set_twice holds x (hold.Own Whole) hold.Lost) ∙ freed_apart frees variables holds x) in
      record {
        owns = e.0.0;
        after = without_freed variables frees owned;
        good = without_freed_good variables frees owned;
        runs = (e.0.1, n.0);
        undone = λ e' starts.
            (let some = any_more (is_same e') (λ e2. true) (λ e2 i. refl) (known.implicit.start_raises t) starts in
            rw lost (raised_losing gone rooms e' (without_freed variables frees holds) among_gone (n.1 some e' (or_right (is_same e' ConstraintError && initial_raises None) (initial_starts known.implicit (is_same e') t None) starts))));
        spares = e.1.1;
        unaliased = λ y u of freed b. freed_none variables frees owned y u of freed b;
      }

  by_items : CopiesWell known.program.types → (items : List ItemForm) → record_initial_is_of_kind known.program.types known.program.variables (object_named known.program.types (Some t)) (Some items) ≡ true → (heap : List Object) (operands : List Value) (holds : Holds) (rooms : Rooms) → is_record_object t (variable_kind known.program.variables x) ≡ true → RunsOn known (Elaborates (declares_record x t (Some items) ∷ ds) fs hs ∷ k) rooms holds → Giving known items (Elaborates ds fs hs ∷ k) rooms holds × InitialTo known heap items operands t × Recording known x t (Elaborates ds fs hs ∷ k) rooms holds
  by_items copies items fits heap operands holds [] is e = absurd e
  by_items copies items fits heap operands holds (gone ∷ rooms) is e =
      let program = known.program in
      let o = Outside known gone (ways known k rooms) in
      let spot = declared_at program.variables x in
      let owning = gathers_at_first program.types t items in
      let used = uses_in_items program.types spot None [] items in
      let more = Elaborating known ds (Doing known fs (Handles hs ∷ Closes ∷ k) (Handled known hs (Closes ∷ k) o)) o in
      let among : Exception → Bool = λ e'. declaration_raises known.implicit (is_same e') (declares_record x t (Some items)) in
      let after = slice_set holds x (hold.Own Whole) in
      let may = items_raise items || false in
      let flow = using_paths no_tracks (copies_to owning spot ∷ used) holds (ends_with may holds after) in
      let frees : ℕ → Bool = λ u. initial_frees known.implicit u t (Some items) in
      let adjusted = To (λ less. more less × AdjustsWell known t less) in
      let g = goes_map flow (λ h. more (without_freed program.variables frees h)) (λ h. Raised among o (without_freed program.variables frees h)) adjusted (Raised among o)
      (λ h m. (
        without_freed program.variables frees h,
        without_freed_good program.variables frees h,
        (m, (e.1.1, λ y u of freed b. freed_none program.variables frees h y u of freed b)),
      ))
      (before_lost program.variables frees (Raised among o) (raised_before among o))
      (loses_goes program.variables frees flow more (Raised among o) e.1.0) in
      let u = using_goes (copies_to owning spot ∷ used) holds (ends_with may holds after) adjusted (Raised among o) g in
      let n = ends_goes may holds after adjusted (Raised among o) u.1 in
      let kept = first_kept holds (copies_to owning spot) used u.0 in (
        record {
          spot = spot;
          earlier = [];
          keeps = items_keep program.types spot None holds [] items kept.1;
          raises = λ raises. (let either = or_left (items_raise items) false raises in n.1 either ConstraintError either);
          bare = λ plain. absurd (cc plain);
        },
        first_well (gathered_first_well program.types copies spot holds t items (λ r f named found. initial_copies program.types program.variables t items r f named found fits) (λ r of named numbered. initial_whole program.types program.variables t items r of named numbered fits) (copied_plain owning spot kept.0) kept.1),
        (is, e.0.0, (n.0.0, n.0.1, ((e.0.1, n.0.2.0), n.0.2.1))),
      )
    where
      first_well : IsPlainFirst known.program.types t ⊎ ((r : ℕ) × AdjustsFirst known.program.types t r × IsCopy r items) → InitialTo known heap items operands t
      first_well (inl none) = inl none
      first_well (inr (r, first, copy)) = inr (r, first, inl copy)

  pub record_fine : CopiesWell known.program.types → (initial : Option (List ItemForm)) → record_initial_is_of_kind known.program.types known.program.variables (object_named known.program.types (Some t)) initial ≡ true → (u : Value) → slice_get a.places x ≡ Some u → is_record_object t (variable_kind known.program.variables x) ≡ true → Working known s.heap a.places s.masters (RunsOn known (Elaborates (declares_record x t initial ∷ ds) fs hs ∷ k)) → Fine known s.heap s.masters (record_next named types x t initial (running (Elaborates ds fs hs ∷ k) a rest s))
  record_fine copies None fits u there is w =
      made_fine known rest s types x t a (Elaborates ds fs hs ∷ k) (initial_values named (reached_of types t)) u is there
      (λ holding kind. initials_in_hand (outers known) s.heap a.places holding kind (reached_of types t)) (at_work w (by_default w.holds w.rooms is w.rest))
  record_fine copies (Some items) fits u there is w =
      ready_on known (Fills items ∷ DeclaresRecord x t ∷ Elaborates ds fs hs ∷ k) a rest s a.operands (at_work w (by_items copies items fits s.heap a.operands w.holds w.rooms is w.rest))

-- A record object of Integers and Booleans without controlled parts comes to be with the items of its initial value.
pub recorded_plain : (known : Known) (k : Control) (a : Activation Value) (rest : List (Activation Value)) (s : State) (types : List TypeDefinition) → Reaches known types → (x t : ℕ) (kinds : List OperandKind) → typed.Fits known.program (cells_of s.heap) kinds (DeclaresRecord x t ∷ k) → AreComputed known.program.types (cells_of s.heap) kinds a.operands → AreHeld known.program.types (cells_of s.heap) known.program.variables a.places → Working known s.heap a.places s.masters (λ rooms holds. IsPlainFirst known.program.types t × Recording known x t k rooms holds) → Stepped known s.heap Quiet (made named types x t Copy (reverse (take (words_of types t) a.operands)) (running k (record a { operands = drop (words_of types t) a.operands }) rest s))
recorded_plain known k a rest s types reaches x t kinds (ks, object, cs, is, of, one, reached, other, more) computed held w = by w.rest
  where
    by : IsPlainFirst known.program.types t × Recording known x t k w.rooms w.holds → Stepped known s.heap Quiet (made named types x t Copy (reverse (take (words_of types t) a.operands)) (running k (record a { operands = drop (words_of types t) a.operands }) rest s))
    by ((none_owns, unnumbered), (of_record, owns, runs)) =
        let counted : words_of types t ≡ length cs = ap count_of (reaches.0 t ∙ reached) in
        let have = (typed.split known.program.types (cells_of s.heap) cs ks a.operands (rw is at computed)).0 in
        let plain : list_any is_owning cs ≡ false = rw reached at none_owns in
        let none = plain_names_nothing known.program.types (cells_of s.heap) cs (reverse (take (length cs) a.operands)) plain have in
        let place = has_place known.program.types (cells_of s.heap) known.program.variables a.places x t held of_record in
        let untreated : all_tasks types t PartsFirst ≡ [] = ap (tasks_for (shapes_of types) PartsFirst) (reaches.5 t ∙ unnumbered) in
        made_plain known rest s types x t (record a { operands = drop (words_of types t) a.operands }) k (reverse (take (words_of types t) a.operands)) place.0 of_record place.1
        (λ holding kind. nothing_in_hand (outers known) s.heap a.places holding kind 0 (reverse (take (words_of types t) a.operands)) (rw counted none)) untreated (at_work w (owns, runs))
