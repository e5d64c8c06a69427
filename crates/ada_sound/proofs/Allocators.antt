-- Allocators: their items are evaluated one by one, and then the new object comes to be.

use Rattle.std.proofs.Common.{◌≡◌, ℕ, Bool, true, false, ◌&&◌, List, [], ◌∷◌, length, take, drop, reverse, refl, sym, ap, subst, ◌∙◌, inr, inl, ◌⊎◌}
use Rattle.std.specs.Prelude.{Option, Some, None}
use Rattle.std.specs.List.{slice_set}
use Rattle.ada_text.specs.declared.spot.Spot.{Spot}
use Rattle.ada_parts.specs.declared.tasks.Direction.TheVariants.{PartsFirst}
use Rattle.ada_program.specs.declared.program.TypeDefinition.{TypeDefinition}
use Rattle.ada_program.specs.declared.program.Exception.TheVariants.{ConstraintError, StorageError}
use Rattle.ada_program.specs.declared.program.ComponentKind.{ComponentKind}
use Rattle.ada_program.specs.declared.program.ComponentKind.TheVariants as component_kinds
use Rattle.ada_program.specs.declared.program.VariableKind.{VariableKind}
use Rattle.ada_program.specs.Form.{PathForm, RecordPathForm, ItemForm, null_item, item_of_path, item_of_value, item_of_record}
use Rattle.ada_program.specs.WellFormed.{access_of, kind_among, path_kind, value_access, is_this, reached_components, is_record_path, component_item_fits, items_fit}
use Rattle.ada_effects.specs.Effects.{items_raise, item_raises}
use Rattle.ada_flow.specs.declared.rule.Hold.{Hold}
use Rattle.ada_flow.specs.declared.rule.Hold.TheVariants as hold
use Rattle.ada_flow.specs.declared.rule.Region.TheVariants.{Whole}
use Rattle.ada_flow.specs.Flow.{Holds, hold_at, variable_access, uses_in_item, copies_to, reaches_it, is_target, lost_by, lost_behind, moved_behind, without_values, moved_by_items, leaves_owners, shares_it}
use Rattle.ada_flow.specs.Tracking.{no_tracks}
use Rattle.ada_meaning.specs.declared.state.Value.{Value}
use Rattle.ada_meaning.specs.declared.state.Value.TheVariants.{Null, Names, Scalar, Part}
use Rattle.ada_meaning.specs.declared.state.Mode.TheVariants.{Raising}
use Rattle.ada_meaning.specs.declared.event.Birth.TheVariants.{Creation}
use Rattle.ada_meaning.specs.Frame.{Computes, Fills, Copies, Creates, Stores, Declares, StoresIn, StoresRecord, DeclaresRecord, begins}
use Rattle.ada_meaning.specs.Event.{Quiet}
use Rattle.ada_meaning.specs.Heap.{Cell}
use Rattle.ada_meaning.specs.State.{Destination, Activation, home_of}
use Rattle.ada_meaning.specs.Step.{all_tasks, path_next, items_next, new_next, new_cell, answered, selected, place_in, record_holder_next}
use Rattle.ada_meaning.specs.Named.{Object, State, object_at, new_object, create, created, store, named, inside}
use Rattle.ada_typed.specs.Holding.{HaveKinds, cells_of}
use Rattle.ada_typed.proofs.Values.{OperandKind, AreComputed}
use Rattle.ada_typed.proofs.Control as typed
use Rattle.ada_meaning.specs.declared.state.Id.{Id}
use Rattle.ada_owners.specs.Places.{is_there, Place}
use Rattle.ada_owners.specs.Reliance.{AreInHand, hold_of, with_lent}
use Rattle.ada_owners.proofs.Changes.{store_is}
use Rattle.ada_sound.proofs.Objects.{get_more, get_new}
use Rattle.ada_sound.proofs.Items.{home_has}
use Rattle.ada_sound.proofs.Stored.{Stored, stored_new, stored_filled}
use Rattle.ada_sound.proofs.Alters.{alters_new}
use Rattle.ada_sound.proofs.Fits.{Fit, Hand, stacked, none_spared, hold_in, place_at, component_access, is_object, weaker_fit, plain_place, as_reliance, less_unnamed, lose_all, put_owner, create_fit, created_access, insert_fit}
use Rattle.ada_sound.proofs.Awaiting.{awaits_along, goes_along}
use Rattle.ada_sound.proofs.Begins.{root_follows}
use Rattle.ada_sound.proofs.Invariant.{begun, along, outers, HasRoom, RoomFor, Known, Control, Rooms, NoneBroken, MayRaise, back_onto, named_of, FilledBy, GoesInto, LeadsTo, Filling, FillsTo, Accepts, StoresTo, IsHolder, AwaitsIn, Initializes, IsMade, Making, NamesTo, To, RunsOn, Working, Stepped, Fine, InitialTo, AdjustsFirst, HasCopied, IsPlainFirst}
use Rattle.ada_sound.proofs.Ready.{running, at_work, ready_on, jumps_less, treats_ready}
use Rattle.ada_sound.proofs.Followings.{first_kept}
use Rattle.ada_sound.proofs.Roots.{root_object, object_there, rest_raises, record_raises, selected_raises}
use Rattle.ada_sound.proofs.Filled.{Lends, kept_by, filled_length, filled_in_hand}
use Rattle.ada_sound.proofs.Copied.{give_next, fill_one, raise_back, copies_on, RecordThere, record_there}
use Rattle.ada_sound.proofs.Lendings.{lends_none, lends_some}
use Rattle.ada_sound.proofs.Records.{new_unnamed, new_unreferred}
use Rattle.ada_sound.proofs.Undone.{new_may_undo}
use Rattle.ada_sound.proofs.Walks.{finds_fine, fills_fine}
use Rattle.ada_sound.proofs.Raising.{or_left}

module _ (known : Known) (heap : List Object) (places : List Value) where
  -- An item has its value.
  fills_on : (i : ItemForm) (items : List ItemForm) (k : Control) (operands : List Value) (v : Value) (rooms : Rooms) (holds : Holds) → FilledBy heap places i v → FillsTo known heap places (i ∷ items) k operands rooms holds → FillsTo known heap places items k (v ∷ operands) rooms holds
  fills_on i items [] operands v rooms holds is f = f
  fills_on i items (Creates access count ∷ k) operands v rooms holds is f = fill_one known heap places access count i items k operands v rooms holds is f
  fills_on i items (StoresRecord o first count ∷ k) operands v rooms holds is f = (give_next known heap places i items k rooms holds f.0, f.1)
  fills_on i items (DeclaresRecord x t ∷ k) operands v rooms holds is (giving, initial, recording) =
      (give_next known heap places i items k rooms holds giving, first_on initial, recording)
    where
      no_record : (j : ItemForm) (p : RecordPathForm) → FilledBy heap places j v → j ≡ item_of_record p → ⊥
      no_record j p by same = rw same at by

      first_on : InitialTo known heap (i ∷ items) operands t → InitialTo known heap items (v ∷ operands) t
      first_on (inl none) = inl none
      first_on (inr (r, first, inr (nothing_left, has))) = absurd (cc nothing_left)
      first_on (inr (r, first, inl (p, all, of))) = let same : i ≡ item_of_record p = cc all in absurd (no_record i p is same)
  fills_on i items (f ∷ k) operands v rooms holds is g = g

  -- What the next item uses breaks no rule, behind some items; and what it may raise is known.
  abbrev NextKeeps : Holds → ItemForm → Type 0
  NextKeeps holds i = (spot : Spot) × (target : Option PathForm) × (earlier : List PathForm) × NoneBroken holds (uses_in_item known.program.types spot target earlier i)

  next_keeps : (i : ItemForm) (items : List ItemForm) (k : Control) (operands : List Value) (rooms : Rooms) (holds : Holds) → FillsTo known heap places (i ∷ items) k operands rooms holds → NextKeeps holds i
  next_keeps i items [] operands rooms holds f = absurd f
  next_keeps i items (Creates access count ∷ k) operands rooms holds f = (f.spot, f.target, named_of f.done, f.behind.0)
  next_keeps i items (StoresRecord o first count ∷ k) operands rooms holds f = (f.0.spot, None, f.0.earlier, f.0.keeps.0)
  next_keeps i items (DeclaresRecord x t ∷ k) operands rooms holds f = (f.0.spot, None, f.0.earlier, f.0.keeps.0)
  next_keeps i items (f ∷ k) operands rooms holds g = absurd g

  next_raises : (i : ItemForm) (items : List ItemForm) (k : Control) (operands : List Value) (rooms : Rooms) (holds : Holds) → FillsTo known heap places (i ∷ items) k operands rooms holds → MayRaise known (item_raises i) ConstraintError k rooms holds
  next_raises i items [] operands rooms holds f = absurd f
  next_raises i items (Creates access count ∷ k) operands rooms holds f = λ may. f.leads.fails (raise_back f.done (i ∷ items) (or_left (item_raises i) (items_raise items) may))
  next_raises i items (StoresRecord o first count ∷ k) operands rooms holds f = λ may. f.0.raises (or_left (item_raises i) (items_raise items) may)
  next_raises i items (DeclaresRecord x t ∷ k) operands rooms holds f = λ may. f.0.raises (or_left (item_raises i) (items_raise items) may)
  next_raises i items (f ∷ k) operands rooms holds g = absurd g

-- A variable that gets a new object is no component.
stores_none : (heap : List Object) (places : List Value) (target : Option PathForm) (x : ℕ) (k : Control) → GoesInto heap places target (Stores x ∷ k) → target ≡ None
stores_none heap places None x k into = refl
stores_none heap places (Some path) x k into = absurd into

declares_none : (heap : List Object) (places : List Value) (target : Option PathForm) (x : ℕ) (k : Control) → GoesInto heap places target (Declares x ∷ k) → target ≡ None
declares_none heap places None x k into = refl
declares_none heap places (Some path) x k into = absurd into

-- What is moved is not found behind what is lost.
moved_kept : (b : Bool) (cs : List ℕ) (h : Hold) (spot : Spot) → moved_behind b cs h spot ≡ None → lost_behind cs h spot ≡ None
moved_kept b [] h spot e = refl
moved_kept true (c ∷ cs) h spot e = e
moved_kept false (c ∷ cs) hold.Null spot e = absurd (cc e)
moved_kept false (c ∷ cs) (hold.Kept r) spot e = absurd (cc e)
moved_kept false (c ∷ cs) (hold.Own r) spot e = absurd (cc e)
moved_kept false (c ∷ cs) (hold.Alias r) spot e = absurd (cc e)
moved_kept false (c ∷ cs) hold.Lost spot e = absurd (cc e)

module _ (known : Known) (k : Control) (a : Activation Value) (rest : List (Activation Value)) (s : State) where
  -- The value of an item is there.
  item_there : (i : ItemForm) (items : List ItemForm) (v : Value) → FilledBy s.heap a.places i v → Working known s.heap a.places s.masters (FillsTo known s.heap a.places (i ∷ items) k a.operands) → Stepped known s.heap Quiet (running (Fills items ∷ k) (record a { operands = v ∷ a.operands }) rest s)
  item_there i items v is w =
      ready_on known (Fills items ∷ k) a rest s (v ∷ a.operands) (at_work w (fills_on known s.heap a.places i items k a.operands v w.rooms w.holds is w.rest))

  -- The value of a path is: of a variable, or of the target, which is followed.
  path_item : (path : PathForm) (items : List ItemForm) (cs : List ℕ) → path.selectors ≡ cs → (w : Working known s.heap a.places s.masters (FillsTo known s.heap a.places (item_of_path path ∷ items) k a.operands)) → (path.of_record ≡ true → is_object known.program.variables path.root ≡ true) → lost_behind cs (hold_at w.holds path.root) path.spot ≡ None → Fine known s.heap s.masters (path_next named (selected named (place_at a.places path.root) cs) (begun a.places path) (running (Fills items ∷ k) a rest s))
  path_item path items [] e w whole kept = item_there (item_of_path path) items (begun a.places path) (rw e refl) w
  path_item path items (c ∷ cs) e w whole kept =
      fills_fine known a rest s a.operands items k (inside (place_at a.places path.root) c) cs (begun a.places path)
      (at_work w (λ v is. fills_on known s.heap a.places (item_of_path path) items k a.operands v w.rooms w.holds (rw e is) w.rest))
      (root_follows path.root path.spot kept w.fit)
      (rest_raises known (begun a.places path) (Fills items ∷ k) w.rooms w.holds path.of_record c cs (λ is. object_there path.root path.spot kept (whole is) w.fit)
      (rw e at (next_raises known s.heap a.places (item_of_path path) items k a.operands w.rooms w.holds w.rest)))

  -- The object in which a record lies is found, and then its components are copied.
  record_item : (p : RecordPathForm) (items : List ItemForm) → RecordThere known.program.types known.program.variables p → (w : Working known s.heap a.places s.masters (FillsTo known s.heap a.places (item_of_record p ∷ items) k a.operands)) → lost_by (hold_at w.holds p.object.root) p.object.spot ≡ None → Fine known s.heap s.masters (record_holder_next named p (λ place. Copies place.component p.record_type) (running (Fills items ∷ k) a rest s))
  record_item p items there w kept =
      let path = p.object in
      let v = begun a.places path in
      let place = place_in named (place_at a.places path.root) path.selectors p in
      finds_fine known a rest s a.operands (Copies place.component p.record_type ∷ Fills items ∷ k) (along a.places path) v
      (at_work w (
        selected_raises known (place_at a.places path.root) v path.selectors (Fills items ∷ k) w.rooms w.holds
            (record_raises known v (Fills items ∷ k) w.rooms w.holds path.of_record path.selectors
            (λ is. object_there path.root path.spot kept (root_object known.program.types known.program.variables path there.to there.leads is) w.fit)
            (next_raises known s.heap a.places (item_of_record p) items k a.operands w.rooms w.holds w.rest)),
        ((λ v. tt), (there.kinds, there.components, copies_on known s.heap a.places p there.kinds items k a.operands w.rooms w.holds there.components w.rest)),
      )) (root_follows path.root path.spot kept w.fit)

  -- The path of a record that is copied is not lost.
  record_kept : (holds : Holds) (p : RecordPathForm) → NextKeeps known s.heap a.places holds (item_of_record p) → lost_by (hold_at holds p.object.root) p.object.spot ≡ None
  record_kept holds p (spot, target, earlier, keeps) =
      let leaves = leaves_owners known.program.types p.record_type in
      let h = first_kept holds (copies_to leaves spot) (shares_it p ∷ reaches_it p.object ∷ []) keeps in
      (first_kept holds (reaches_it p.object) [] h.1).0

  -- A path that typing knows of leads somewhere.
  and_left : (x y : Bool) → (x && y) ≡ true → x ≡ true
  and_left true y e = refl
  and_left false y e = absurd (cc e)

  this_leads : (found : Option VariableKind) (t : ℕ) → is_this t (value_access found) ≡ true → (to : VariableKind) × (found ≡ Some to)
  this_leads None t e = absurd (cc e)
  this_leads (Some to) t e = (to, refl)

  path_leads : (c : ComponentKind) (path : PathForm) → component_item_fits known.program.types known.program.variables c (item_of_path path) ≡ true → (to : VariableKind) × (path_kind known.program.types known.program.variables path ≡ Some to)
  path_leads (component_kinds.Integer initial) path e = absurd (cc e)
  path_leads (component_kinds.Boolean initial) path e = absurd (cc e)
  path_leads (component_kinds.Access access) path e = this_leads (path_kind known.program.types known.program.variables path) access.0 e

  path_fits : (cs : List ComponentKind) (path : PathForm) (items : List ItemForm) → items_fit known.program.types known.program.variables cs (item_of_path path ∷ items) ≡ true → path.of_record ≡ true → is_object known.program.variables path.root ≡ true
  path_fits [] path items e whole = absurd (cc e)
  path_fits (c ∷ cs) path items e whole =
      let here = and_left (component_item_fits known.program.types known.program.variables c (item_of_path path)) (items_fit known.program.types known.program.variables cs items) e in
      let leads = path_leads c path here in
      root_object known.program.types known.program.variables path leads.0 leads.1 whole

  record_fits : (cs : List ComponentKind) (p : RecordPathForm) (items : List ItemForm) → items_fit known.program.types known.program.variables cs (item_of_record p ∷ items) ≡ true → RecordThere known.program.types known.program.variables p
  record_fits cs p items e =
      record_there known.program.types known.program.variables p (and_left (is_record_path known.program.types known.program.variables p) _ (and_left _ _ e))

  -- The items of an aggregate are evaluated, and then its object is asked for, or its values are stored.
  pub items_fine : (items : List ItemForm) (cs : List ComponentKind) → items_fit known.program.types known.program.variables cs items ≡ true → Working known s.heap a.places s.masters (FillsTo known s.heap a.places items k a.operands) → Fine known s.heap s.masters (items_next named items (running k a rest s))
  items_fine [] cs fits w = asked k w
    where
      all_there : (t : ℕ) → InitialTo known s.heap [] a.operands t → IsPlainFirst known.program.types t ⊎ ((r : ℕ) × AdjustsFirst known.program.types t r × HasCopied known s.heap r a.operands)
      all_there t (inl none) = inl none
      all_there t (inr (r, first, inl (p, all, of))) = absurd (cc all)
      all_there t (inr (r, first, inr (nothing_left, has))) = inr (r, first, has)

      asked : (k' : Control) → Working known s.heap a.places s.masters (FillsTo known s.heap a.places [] k' a.operands) → Stepped known s.heap Quiet (running k' a rest s)
      asked [] w' = absurd w'.rest
      asked (Creates access count ∷ k') w' = ready_on known (Creates access count ∷ k') a rest s a.operands w'
      asked (StoresRecord o first count ∷ k') w' = ready_on known (StoresRecord o first count ∷ k') a rest s a.operands (at_work w' (inl w'.rest.1))
      asked (DeclaresRecord x t ∷ k') w' = ready_on known (DeclaresRecord x t ∷ k') a rest s a.operands (at_work w' (all_there t w'.rest.1, w'.rest.2))
      asked (f ∷ k') w' = absurd w'.rest
  items_fine (null_item ∷ items) cs fits w = item_there null_item items Null refl w
  items_fine (item_of_path path ∷ items) cs fits w =
      let keeps = next_keeps known s.heap a.places (item_of_path path) items k a.operands w.rooms w.holds w.rest in
      path_item path items path.selectors refl w (path_fits cs path items fits)
      (moved_kept (is_target keeps.1 path) path.selectors (hold_at w.holds path.root) path.spot (kept_by keeps.1 w.holds keeps.2 path keeps.3).1)
  items_fine (item_of_value e ∷ items) cs fits w =
      let keeps = next_keeps known s.heap a.places (item_of_value e) items k a.operands w.rooms w.holds w.rest in
      ready_on known (Computes e ∷ Fills items ∷ k) a rest s a.operands (at_work w (keeps.3, next_raises known s.heap a.places (item_of_value e) items k a.operands w.rooms w.holds w.rest, λ v. fills_on known s.heap a.places (item_of_value e) items k a.operands v w.rooms w.holds tt w.rest))
  items_fine (item_of_record p ∷ items) cs fits w =
      record_item p items (record_fits cs p items fits) w (record_kept w.holds p (next_keeps known s.heap a.places (item_of_record p) items k a.operands w.rooms w.holds w.rest))

  -- A new object is granted, or refused.
  module _ (types : List TypeDefinition) (access count words : ℕ) (home : Destination) (is_home : home_of access s.masters ≡ Some home) (w : Working known s.heap a.places s.masters (Filling known s.heap a.places access count [] k a.operands)) (kinds : HaveKinds known.program.types (cells_of s.heap) w.rest.leads.components (reverse (take count a.operands))) where
    cell : Cell Value
    cell = new_cell named types access count home (running k a rest s)

    -- What is known once the variables that the items move are lost.
    lost : Holds
    lost = without_values (moved_by_items no_tracks (back_onto w.rest.done [])) w.holds

    counted : count ≡ length (back_onto w.rest.done [])
    counted = w.rest.counted ∙ sym (filled_length known.program.types known.program.variables s.heap a.places w.rest.leads.components w.rest.done a.operands w.rest.filled w.rest.leads.fit)

    -- The values of the items are in hand, as far as nothing more is relied on than what they leave.
    in_hand_by : (after : Place → Hold) → Lends (outers known) s.heap a.places w.holds w.rest.target (moved_by_items no_tracks (back_onto w.rest.done [])) after → (n : ℕ) → n ≡ length (back_onto w.rest.done []) → HaveKinds known.program.types (cells_of s.heap) w.rest.leads.components (reverse (take n a.operands)) → AreInHand s.heap (stacked a.places (outers known)) after (λ c. access_of (kind_among (reached_components known.program.types access) c)) 0 (reverse (take n a.operands))
    in_hand_by after lends n e h =
        rw e (filled_in_hand known.program.types known.program.variables (outers known) s.heap a.places w.holds w.rest.spot w.rest.target (moved_by_items no_tracks (back_onto w.rest.done [])) after w.fit lends access w.rest.leads.components w.rest.done a.operands (λ x is. is) w.rest.leads.reached w.rest.leads.fit w.rest.before w.rest.filled (rw e at h))

    -- Where it goes to a variable, no component is an item.
    made : w.rest.target ≡ None → Fit known.program.types known.program.variables (outers known) none_spared (create s.heap words cell) a.places lost × Hand known.program.types known.program.variables (outers known) none_spared (create s.heap words cell) a.places lost (Some access) (created s.heap words)
    unfolding cell lost
    made none =
        let after = hold_in (outers known) none_spared lost in
        create_fit words cell (in_hand_by after (lends_none (outers known) s.heap a.places w.holds w.rest.target (moved_by_items no_tracks (back_onto w.rest.done [])) none) count counted kinds)
        (lose_all (moved_by_items no_tracks (back_onto w.rest.done [])) w.fit)

    stored : Stored (outers known).under (create s.heap words cell) s.masters
    unfolding cell
    stored = stored_new cell (home_has access home s.masters is_home) w.stored

    -- A variable owns it then, or a component does.
    owned_by : (x : ℕ) (More : Rooms → Holds → Type 0) → w.rest.target ≡ None → variable_access known.program.variables x ≡ Some access → is_object known.program.variables x ≡ false → To (More w.rooms) (slice_set lost x (hold.Own Whole)) → Working known (create s.heap words cell) (slice_set a.places x (created s.heap words)) s.masters More
    owned_by x More none is other runs = record {
      rooms = w.rooms;
      holds = runs.0;
      stored = stored;
      roomed = w.roomed;
      fit = weaker_fit runs.0 runs.1 (put_owner x (created s.heap words) Whole tt (plain_place known.program.types (outers known).referenced known.program.variables a.places x (created s.heap words) other tt) (rw is (made none).1) (made none).0);
      rest = runs.2;
    }

    inserted : (o : Id) (object : Object) (c : ℕ) → object_at s.heap o ≡ Some object → is_there object.stage ≡ true → component_access known.program.types object c ≡ Some access → ((path : PathForm) → w.rest.target ≡ Some path → LeadsTo s.heap a.places (Names o) [] c path) → Fit known.program.types known.program.variables (outers known) none_spared (store (create s.heap words cell) (Names o) c (created s.heap words)) a.places lost
    unfolding cell lost
    inserted o object c found listed same leads =
        let moved = moved_by_items no_tracks (back_onto w.rest.done []) in
        let after = hold_of (with_lent o c (as_reliance (outers known) lost)) in
        insert_fit words cell o object c found listed same (in_hand_by after (lends_some (outers known) s.heap a.places w.holds w.rest.target moved o object c found listed leads) count counted kinds) (lose_all moved w.fit)

    stored_in : (o : Value) (c : ℕ) (k' : Control) → ((path : PathForm) → w.rest.target ≡ Some path → LeadsTo s.heap a.places o [] c path) → Accepts known s.heap o c (Some access) → To (RunsOn known k' w.rooms) lost → IsHolder (create s.heap words cell) o × Working known (store (create s.heap words cell) o c (created s.heap words)) a.places s.masters (RunsOn known k')
    stored_in Null c k' leads into runs = absurd into
    stored_in (Scalar n) c k' leads into runs = absurd into
    stored_in (Part object_id base) c k' leads into runs = absurd into
    stored_in (Names o) c k' leads into runs =
        let found : object_at (create s.heap words cell) o ≡ Some into.0 = get_more s.heap (new_object cell) o.0 into.0 into.1 in
        let kept : Stored (outers known).under (store (create s.heap words cell) (Names o) c (created s.heap words)) s.masters =
        rw (store_is (create s.heap words cell) o into.0 found c (created s.heap words)) (stored_filled o into.0 c (created s.heap words) found stored) in (
          (into.0, found, into.2),
          record {
            rooms = w.rooms;
            holds = runs.0;
            stored = kept;
            roomed = w.roomed;
            fit = weaker_fit runs.0 runs.1 (inserted o into.0 c into.1 into.2 into.3 leads);
            rest = runs.2;
          },
        )

    granted_names : (k' : Control) (operands : List Value) → RoomFor k' w.rooms → GoesInto s.heap a.places w.rest.target k' → StoresTo k' (λ x k2. ((variable_access known.program.variables x ≡ Some access) × (is_object known.program.variables x ≡ false)) × To (RunsOn known k2 w.rooms) (slice_set lost x (hold.Own Whole))) (λ o c k2. Accepts known s.heap o c (Some access) × To (RunsOn known k2 w.rooms) lost) → NamesTo known k' (create s.heap words cell) a.places (created s.heap words ∷ operands) s.masters
    granted_names [] operands room into to = absurd to
    granted_names (Stores x ∷ k') operands room into to = owned_by x (RunsOn known k') (stores_none s.heap a.places w.rest.target x k' into) to.0.0 to.0.1 to.1
    granted_names (Declares x ∷ k') operands room into to = owned_by x (λ rooms holds. HasRoom rooms × RunsOn known k' rooms holds) (declares_none s.heap a.places w.rest.target x k' into) to.0.0 to.0.1 (to.1.0, to.1.1, (room, to.1.2))
    granted_names (StoresIn o c ∷ k') operands room into to = stored_in o c k' (λ path is. rw is at into) to.0 to.1
    granted_names (f ∷ k') operands room into to = absurd to

    -- Where operations may touch storage that are called for it, nothing relies on it until it gets to a variable or a component.
    next : Id
    next = record { 0 = length s.heap }

    made_unmoved : (done : List ItemForm) → moved_by_items no_tracks (back_onto done []) ≡ [] → without_values (moved_by_items no_tracks (back_onto done [])) w.holds ≡ w.holds
    made_unmoved done none = rw none refl

    making_by : (k' : Control) → w.rest.target ≡ None → RoomFor k' w.rooms → (moved_by_items no_tracks (back_onto w.rest.done []) ≡ []) × Initializes known s.heap access k' w.rooms w.holds → Making known next access k' (create s.heap words cell) a.places s.masters
    unfolding cell lost next
    making_by k' none room (unmoved, i) =
        let both = made none in
        let same : lost ≡ w.holds = made_unmoved w.rest.done unmoved in
        let fit : Fit known.program.types known.program.variables (outers known) none_spared (create s.heap words cell) a.places w.holds = subst (λ (holds : Holds). Fit known.program.types known.program.variables (outers known) none_spared (create s.heap words cell) a.places holds) same both.0 in
        let hand : Hand known.program.types known.program.variables (outers known) none_spared (create s.heap words cell) a.places w.holds (Some access) (created s.heap words) = subst (λ (holds : Holds). Hand known.program.types known.program.variables (outers known) none_spared (create s.heap words cell) a.places holds (Some access) (created s.heap words)) same both.1 in
        record {
          rooms = w.rooms;
          holds = i.less;
          stored = stored;
          roomed = w.roomed;
          fit = weaker_fit i.less i.good fit;
          aside = (less_unnamed i.less i.good next fit (new_unnamed words cell w.fit hand), new_unreferred words cell w.fit);
          room = room;
          to = goes_along known (AwaitsIn known s.heap access) (AwaitsIn known (create s.heap words cell) access)
              (awaits_along known s.heap (create s.heap words cell) (λ p t there. created_access s.heap words cell p t there) access) access k' w.rooms i.less i.to;
          undone = i.undone;
          well = i.well;
        }

    making : known.touches access ≡ true → Making known next access k (create s.heap words cell) a.places s.masters
    making touches = making_by k (w.rest.unlent touches) w.rest.leads.room (w.rest.leads.initializes touches)

    made_here : IsMade known (created s.heap words) k (create s.heap words cell) a.places s.masters
    unfolding cell next
    made_here o x is found touches =
        let this : o ≡ next = cc is in
        let new = get_new s.heap (new_object cell) in
        let one : x ≡ new_object cell = cc (rw this at found, new) in
        let access_is : access ≡ x.cell.access = ap (λ (y : Object). y.cell.access) (sym one) in
        subst (λ (q : Id). Making known q x.cell.access k (create s.heap words cell) a.places s.masters) (sym this)
        (subst (λ (t : ℕ). Making known next t k (create s.heap words cell) a.places s.masters) access_is (making (rw (← access_is) at touches)))

    answered_fine : (granted : Bool) → Stepped known s.heap Quiet (answered named types access count words home (running k a rest s) granted)
    unfolding cell lost next
    answered_fine true = record { ready = (tt, treats_ready known (created s.heap words) (begins Creation []) (all_tasks types access PartsFirst) k (create s.heap words cell) a.places (created s.heap words ∷ drop count a.operands) s.masters (inr (refl, made_here, granted_names k (drop count a.operands) w.rest.leads.room w.rest.into w.rest.leads.to), new_may_undo known s.heap words cell k a.places s.masters w.rooms w.holds stored w.roomed w.fit w.rest.leads.starts making) tt); alters = alters_new s.heap Quiet (new_object cell) refl; says = tt }
    answered_fine false = jumps_less known k a rest s (Raising StorageError) (at_work w (w.rest.leads.refused refl))

  creates_by : (types : List TypeDefinition) (access count words : ℕ) → (home : Option Destination) → home_of access s.masters ≡ home → (w : Working known s.heap a.places s.masters (Filling known s.heap a.places access count [] k a.operands)) → HaveKinds known.program.types (cells_of s.heap) w.rest.leads.components (reverse (take count a.operands)) → Fine known s.heap s.masters (new_next named types access count words home (running k a rest s))
  creates_by types access count words None e w kinds = jumps_less known k a rest s (Raising StorageError) (at_work w (w.rest.leads.refused refl))
  creates_by types access count words (Some home) e w kinds = answered_fine types access count words home e w kinds

  pub creates_fine : (types : List TypeDefinition) (access count words : ℕ) → (kinds : List OperandKind) → typed.Fits known.program (cells_of s.heap) kinds (Creates access count ∷ k) → AreComputed known.program.types (cells_of s.heap) kinds a.operands → Working known s.heap a.places s.masters (Filling known s.heap a.places access count [] k a.operands) → Fine known s.heap s.masters (new_next named types access count words (home_of access s.masters) (running k a rest s))
  creates_fine types access count words kinds fits computed w =
      let split_kinds = (typed.split known.program.types (cells_of s.heap) fits.1 fits.0 a.operands (rw fits.2 at computed)).0 in
      let same : fits.1 ≡ w.rest.leads.components = let reached = fits.3 in let other = w.rest.leads.reached in cc (reached, other) in
      creates_by types access count words (home_of access s.masters) refl w (rw (← same, fits.4) split_kinds)
