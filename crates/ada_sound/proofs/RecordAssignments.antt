-- Records that have controlled parts are assigned to one another (5.2, 7.6): both are found first; then the target is finalized, its components get the values
-- of the other one's, and it is adjusted. Their components are Integers and Booleans, or Adjusts see to those of access types.

use Rattle.ada_meaning.specs.declared.state.Mode.TheVariants.{Running}
use Rattle.ada_parts.specs.Law.{Run, here}
use Rattle.ada_parts.specs.Shape.{Shape}
use Rattle.ada_parts.specs.Task.{Task, opened}
use Rattle.ada_program.specs.declared.program.Finalization.{Finalization}
use Rattle.std.proofs.Common.{◌≡◌, ◌==◌, ℕ, Bool, true, false, ◌||◌, ◌&&◌, List, [], ◌∷◌, ◌++◌, length, drop, refl, ◌∙◌, sym, ap, subst, inl, inr}
use Rattle.std.proofs.lemmas.Bool.{and_parts}
use Rattle.std.specs.Prelude.{Option, Some, None}
use Rattle.std.specs.List.{list_any, list_all, slice_get}
use Rattle.ada_parts.specs.declared.tasks.Direction.TheVariants.{PartsFirst, WholeFirst}
use Rattle.ada_program.specs.declared.program.ComponentKind.{ComponentKind}
use Rattle.ada_program.specs.declared.program.Exception.{Exception}
use Rattle.ada_program.specs.declared.program.Exception.TheVariants.{ConstraintError}
use Rattle.ada_program.specs.declared.program.TypeDefinition.{TypeDefinition}
use Rattle.ada_program.specs.Form.{RecordPathForm, ItemForm, null_item, item_of_path, item_of_value, item_of_record, StmtsForm, assigns_record}
use Rattle.ada_program.specs.ProgramForm.{TypeForm, VariableForm}
use Rattle.ada_program.specs.Controlled.{number_in, shapes_of}
use Rattle.ada_program.specs.Handling.{is_same}
use Rattle.ada_program.specs.Typed.{width_of}
use Rattle.ada_program.specs.WellFormed.{record_components, reached_components, is_record_path, item_fits, is_filled, item_owns, copies_whole, finalization_of, record_fits, has_record_at, object_named}
use Rattle.ada_effects.specs.Effects.{effects_of, record_path_raises, item_raises, items_raise, stmt_raises, assignment_frees}
use Rattle.ada_flow.specs.Flow.{Holds, hold_at, lost_by, is_owning, reaches_it, passes_it, copies_to, uses_in_items, uses_in_record, uses_in_copy, record_passes, gives_record, using_paths, ends_with, without_freed, gathers_owners, leaves_owners, shares_it}
use Rattle.ada_flow.specs.Tracking.{no_tracks}
use Rattle.ada_meaning.specs.declared.event.Birth.TheVariants.{Adjustment}
use Rattle.ada_meaning.specs.declared.event.Cause.TheVariants.{Assigning}
use Rattle.ada_meaning.specs.declared.state.Id.{Id}
use Rattle.ada_meaning.specs.declared.state.Place.{Place}
use Rattle.ada_meaning.specs.declared.state.Value.{Value}
use Rattle.ada_meaning.specs.declared.state.Value.TheVariants.{Null, Names, Part}
use Rattle.ada_meaning.specs.Event.{Quiet}
use Rattle.ada_meaning.specs.Frame.{Does, Refers, Assigns, Copies, StoresRecord, begins, ends}
use Rattle.ada_meaning.specs.State.{Activation}
use Rattle.ada_meaning.specs.Step.{first_or, older, treating, tasks_in, record_tasks, assigning, assigns_next, copy_next, moves}
use Rattle.ada_meaning.specs.Named.{Object, State, named, object_at, whole, base, part_base, same}
use Rattle.ada_owners.proofs.Objects.{present_at}
use Rattle.ada_sound.proofs.Begins.{Referred, record_referred}
use Rattle.ada_owners.specs.Places.{is_there}
use Rattle.ada_sound.proofs.Gathered.{bare_owns_nothing, gathered_well}
use Rattle.ada_sound.proofs.Copied.{copied_whole, record_there, may_copy}
use Rattle.ada_sound.proofs.Defaults.{Reaches}
use Rattle.ada_sound.proofs.Followings.{first_kept, kept_apart}
use Rattle.ada_sound.proofs.Handings.{passed_safe}
use Rattle.ada_sound.proofs.Invariant.{outers, AdjustsAside, Known, Control, Rooms, Goes, To, Raised, RunsOn, AdjustedBehind, StoresSo, CopiesElsewhere, IsHolder, ReferredBy, IsSource, PassesTo, Working, Fine, ways, MayCopy, StoresBehind, ReadyIn, LiesIn, Spares, AssignsTo, AssignsWell}
use Rattle.ada_sound.proofs.Outcomes.{raised_before, using_goes, ends_goes, before_lost, goes_map, loses_goes, to_here}
use Rattle.ada_sound.proofs.Raising.{or_left, or_right}
use Rattle.ada_sound.proofs.Ready.{running, at_work, at_less, stays, ready_on, runs_on, treats_ready, copies_on}
use Rattle.ada_sound.proofs.Wholes.{to_object, width_is}
use Rattle.ada_meaning.specs.Heap.{Cell}
use Rattle.ada_typed.proofs.Values.{RefersToRecord}
use Rattle.ada_sound.proofs.InsideRecords.{TasksInside}
use Rattle.ada_sound.proofs.LeftFinalized.{freed_none}
use Rattle.ada_sound.proofs.Orderings.{without_freed_good}
use Rattle.ada_typed.proofs.Evaluations.{cell_at}
use Rattle.ada_typed.specs.Holding.{cells_of, PartsLie, WalksTo}
use Rattle.ada_typed.proofs.Parts.{shown_number, shown_shapes}
use Rattle.ada_parts.proofs.Facts.{eq_self}
use Rattle.ada_sound.proofs.CopiedOwners.{CopiesWell, Covered, LieApart, SeesToAll, owners_left}
use Rattle.ada_sound.proofs.CoveredOwners.{covered_from}

-- What typing says of the one record that is copied: its path leads to a record.
source_lies : (types : List TypeForm) (variables : List VariableForm) (t : ℕ) (source : RecordPathForm) → record_fits types variables t (item_of_record source ∷ []) ≡ true → is_record_path types variables source ≡ true
source_lies types variables t source fits = go (record_components types t) filled
  where
    filled : is_filled types variables (record_components types t) (item_of_record source ∷ []) ≡ true
    filled =
        (and_parts (is_filled types variables (record_components types t) (item_of_record source ∷ [])) (list_all (item_owns variables) (item_of_record source ∷ []))
        (and_parts (is_filled types variables (record_components types t) (item_of_record source ∷ []) && list_all (item_owns variables) (item_of_record source ∷ [])) (copies_whole t (finalization_of types t) (item_of_record source ∷ [])) fits).0).0

    go : (found : Option (List ComponentKind)) → is_filled types variables found (item_of_record source ∷ []) ≡ true → is_record_path types variables source ≡ true
    go None e = absurd (cc e)
    go (Some components) e =
        let item = (and_parts (item_fits types variables components (item_of_record source)) _ e).0 in
        (and_parts (is_record_path types variables source) _ item).0

-- Cells that are found in one place are one.
some_same : {c d : Cell Value} → Some c ≡ Some d → c ≡ d
some_same e = cc e

module _ (known : Known) (a : Activation Value) (rest : List (Activation Value)) (s : State) where
  module _ {more : Rooms → Holds → Type 0} (w : Working known s.heap a.places s.masters more) where
    -- A record that is found lies in an object that is there.
    found_there : (p : RecordPathForm) (v : Value) → is_record_path known.program.types known.program.variables p ≡ true → lost_by (hold_at w.holds p.object.root) p.object.spot ≡ None → ReferredBy s.heap a.places p v → Referred known.program.types known.program.variables (outers known).referenced s.heap p v
    found_there p v lies kept by = record_referred w.fit p v lies kept by

    -- So that object is there.
    source_there : (p : RecordPathForm) (v : Value) → Referred known.program.types known.program.variables (outers known).referenced s.heap p v → IsSource s.heap v
    source_there p v r = let h = present_at s.heap r.o r.t r.there in (r.o, r.place, r.is, (h.object, h.found, h.there))

  -- The target is found, and then the other record.
  pub copy_begins : CopiesWell known.program.types → (target : RecordPathForm) (items : List ItemForm) (fs : StmtsForm) (k : Control) (of : ℕ) → shown_number known.program.types (Some target.record_type) ≡ Some of → Spares known (λ u. assignment_frees known.implicit u target.record_type) → is_record_path known.program.types known.program.variables target ≡ true → record_fits known.program.types known.program.variables target.record_type items ≡ true → Working known s.heap a.places s.masters (λ rooms holds. Goes (gives_record known.program.types known.program.variables no_tracks (λ u. assignment_frees known.implicit u target.record_type) target items holds) (RunsOn known (Does fs ∷ k) rooms) (Raised (λ e. stmt_raises (effects_of known.implicit known.program) (is_same e) (assigns_record target items)) (ways known k rooms))) → Fine known s.heap s.masters (copy_next named target items (running (Does fs ∷ k) a rest s))
  copy_begins adjusts target [] fs k of numbered spares lies fits w = tt
  copy_begins adjusts target (null_item ∷ is) fs k of numbered spares lies fits w = tt
  copy_begins adjusts target (item_of_path path ∷ is) fs k of numbered spares lies fits w = tt
  copy_begins adjusts target (item_of_value e ∷ is) fs k of numbered spares lies fits w = tt
  copy_begins adjusts target (item_of_record source ∷ i ∷ is) fs k of numbered spares lies fits w = tt
  copy_begins adjusts target (item_of_record source ∷ []) fs k of numbered spares lies fits w =
      let program = known.program in
      let path = target.object in
      let items = item_of_record source ∷ [] in
      let owning = gathers_owners program.types target.record_type items in
      let copied = leaves_owners program.types source.record_type in
      let may = record_path_raises target || items_raise items in
      let among : Exception → Bool = λ e. stmt_raises (effects_of known.implicit known.program) (is_same e) (assigns_record target items) in
      let out = ways known k w.rooms in
      let next = RunsOn known (Does fs ∷ k) w.rooms in
      let more = To (AssignsTo known target.record_type (Does fs ∷ k) w.rooms) in
      let frees = λ (u : ℕ). assignment_frees known.implicit u target.record_type in
      let needed = uses_in_record program.types path.spot target.record_type items in
      let copies = uses_in_copy program.types program.variables frees items in
      let reach = passes_it (record_passes program.types program.variables frees target) path in
      let flow = ends_with may w.holds w.holds in
      let passes = using_paths no_tracks (reach ∷ (needed ++ copies)) w.holds flow in
      let g = goes_map passes (λ h. next (without_freed program.variables frees h)) (λ h. Raised among out (without_freed program.variables frees h)) more (Raised among out)
      (λ h m. (without_freed program.variables frees h, without_freed_good program.variables frees h, (m, (spares, freed_none program.variables frees h))))
      (before_lost program.variables frees (Raised among out) (raised_before among out))
      (loses_goes program.variables frees passes next (Raised among out) w.rest) in
      let u = using_goes (reach ∷ (needed ++ copies)) w.holds flow more (Raised among out) g in
      let n = ends_goes may w.holds w.holds more (Raised among out) u.1 in
      let found = first_kept w.holds reach (needed ++ copies) u.0 in
      let reached = (passed_safe (record_passes program.types program.variables frees target) (hold_at w.holds path.root) path.spot found.0).1 in
      let plain = first_kept w.holds (copies_to owning path.spot) (uses_in_items program.types path.spot None [] items) (kept_apart w.holds needed copies found.1).0 in
      let second = first_kept w.holds (copies_to copied path.spot) (shares_it source ∷ reaches_it source.object ∷ []) plain.1 in
      let kept = (first_kept w.holds (reaches_it source.object) [] second.1).0 in
      let there = record_there program.types program.variables target lies in
      ready_on known (Refers target ∷ Refers source ∷ Assigns target.record_type ∷ Does fs ∷ k) a rest s a.operands
      (at_work w (
        reached,
        (λ raises. let either = or_left (record_path_raises target) (items_raise items) raises in n.1 either ConstraintError either),
        (λ v by. (
          kept,
          (λ raises. let either = or_right (record_path_raises target) (items_raise items) (or_left (item_raises (item_of_record source)) (items_raise []) raises) in n.1 either ConstraintError either),
          (λ u by'. (
            (
              there.kinds,
              there.components,
              source_there w target v (found_there w target v lies reached by),
              gathered_well program.types adjusts path.spot w.holds target.record_type items (may_copy program.types program.variables target.record_type items fits) (copied_whole program.types program.variables target.record_type of items numbered fits) plain.1,
              source_there w source u (found_there w source u (source_lies program.types program.variables target.record_type source fits) kept by'),
              may_copy program.types program.variables target.record_type items fits,
            ),
            n.0,
          )),
        )),
      ))

  -- Both are found.
  module _ (types : List TypeDefinition) (reaches : Reaches known types) (k : Control) where
    -- Typing says where a record lies.
    lies_there : (t : ℕ) (u : Value) → RefersToRecord known.program.types (cells_of s.heap) t u → IsSource s.heap u → LiesIn known s.heap t (whole u)
    lies_there t u refers (p, other, from, (x, found, there)) =
        let lies : RefersToRecord known.program.types (cells_of s.heap) t (Part p other) = rw from at refers in
        let one : lies.0 ≡ x.cell = some_same (sym lies.1 ∙ cell_at s.heap p.0 x found) in
        rw from (x, found, there, (other.component, other.part, rw one at lies.3))

    -- Two records that are not one lie apart, where they lie in one object.
    records_apart :
        (t : ℕ) (v u : Value) → RefersToRecord known.program.types (cells_of s.heap) t v → RefersToRecord known.program.types (cells_of s.heap) t u
        → IsSource s.heap v → IsSource s.heap u → same v u ≡ Some false → whole v ≡ whole u → LieApart known.program.types t (base u) (base v)
    records_apart t v u target source (p, place, from_v, there_v) (q, other, from_u, there_u) apart one =
        let one_target : RefersToRecord known.program.types (cells_of s.heap) t (Part p place) = rw from_v at target in
        let one_source : RefersToRecord known.program.types (cells_of s.heap) t (Part q other) = rw from_u at source in
        let names : Names p ≡ Names q = sym (ap whole from_v) ∙ one ∙ ap whole from_u in
        let same_name : p ≡ q = cc names in
        let same_cell : one_target.0 ≡ one_source.0 = some_same (sym one_target.1 ∙ ap (λ (i : Id). slice_get (cells_of s.heap) i.0) same_name ∙ one_source.1) in
        let differ : same (Part p place) (Part q other) ≡ Some false = ap (λ (w : Value). same w (Part q other)) (sym from_v) ∙ ap (λ (w : Value). same v w) (sym from_u) ∙ apart in
        let own : LieApart known.program.types t other.component place.component = record {
          access = one_source.0.access;
          part = other.part;
          other = place.part;
          apart = λ parts. parts_differ p q place.part other.part same_name (sym parts) differ;
          one_lies = one_source.3;
          other_lies =
              subst (λ (c : Cell Value). PartsLie known.program.types (object_named known.program.types (Some c.access)) (Some t) place.component place.part) same_cell one_target.3;
        } in
        subst (λ (w : Value). LieApart known.program.types t (base w) (base v)) (sym from_u)
        (subst (λ (w : Value). LieApart known.program.types t other.component (base w)) (sym from_v) own)
      where
        some_bool : {x y : Bool} → Some x ≡ Some y → x ≡ y
        some_bool e = cc e

        parts_differ : (i j : Id) (m n : ℕ) → i ≡ j → m ≡ n → Some ((i.0 == j.0) && (m == n)) ≡ Some false → ⊥
        parts_differ i j m n ids parts is =
            let one : ((i.0 == j.0) && (m == n)) ≡ false = some_bool is in
            let first : (i.0 == j.0) ≡ true = ap (λ (k : Id). i.0 == k.0) (sym ids) ∙ eq_self i.0 in
            let second : (m == n) ≡ true = ap (λ (k : ℕ). m == k) (sym parts) ∙ eq_self m in
            let both : ((i.0 == j.0) && (m == n)) ≡ true = rw (first, second) refl in
            cc (one, both)

    -- Of what the Adjusts of the record may free there is no alias, since there is none of what the assignment may free.
    aside_there : (t access : ℕ) (next : Control) (rooms : Rooms) (holds : Holds) → RunsOn known next rooms holds → AssignsWell known t holds → To (λ less. RunsOn known next rooms less × AdjustsAside known access t less) holds
    aside_there t access next rooms holds runs well =
        let ends = known.implicit.end_frees t in
        let adjusts = known.implicit.adjust_frees t in
        to_here (λ less. RunsOn known next rooms less × AdjustsAside known access t less) holds (
          runs,
          (
            t,
            (λ u may. well.0 u (or_right (ends u) (adjusts u) may), λ x u of may borrows. well.1 x u of (or_right (ends u) (adjusts u) may) borrows),
            inr refl,
          ),
        )

    -- The target's object has the record's components, and its controlled parts.
    record Target (t : ℕ) (v : Value) (kinds : List ComponentKind) : Type 0 where
      o : Id
      place : Place
      x : Object
      is : v ≡ Part o place
      found : object_at s.heap o ≡ Some x
      listed : is_there x.stage ≡ true
      has : has_record_at (reached_components known.program.types x.cell.access) place.component (Some kinds) ≡ true
      parts : PartsLie known.program.types (object_named known.program.types (Some x.cell.access)) (Some t) place.component place.part

    -- Typing says so.
    target_there : (t : ℕ) (v : Value) (kinds : List ComponentKind) → record_components known.program.types t ≡ Some kinds → RefersToRecord known.program.types (cells_of s.heap) t v → IsSource s.heap v → Target t v kinds
    target_there t v kinds is refers (p, place, from, (x, found, there)) =
        let forms = known.program.types in
        let lies : RefersToRecord forms (cells_of s.heap) t (Part p place) = rw from at refers in
        let one : lies.0 ≡ x.cell = some_same (sym lies.1 ∙ cell_at s.heap p.0 x found) in
        record {
          o = p;
          place = place;
          x = x;
          is = from;
          found = found;
          listed = there;
          has = rw (← is, ← one) lies.2;
          parts = rw one at lies.3;
        }

    -- Where the record has controlled parts, all of these are to be adjusted.
    tasks_opened : (t of part : ℕ) → shown_number known.program.types (Some t) ≡ Some of → record_tasks types t PartsFirst part ≡ opened (shown_shapes known.program.types) PartsFirst of part
    tasks_opened t of part numbered =
        ap (λ (number : Option ℕ). tasks_in (shapes_of types) PartsFirst number part) (reaches.4 t ∙ numbered)
        ∙ ap (λ (table : List Shape). opened table PartsFirst of part) (sym reaches.6)

    -- What its components get, and what is adjusted then.
    adjusted_in : (t of access : ℕ) (p : Id) (place : Place) (kinds : List ComponentKind) → record_components known.program.types t ≡ Some kinds → has_record_at (reached_components known.program.types access) place.component (Some kinds) ≡ true → PartsLie known.program.types (object_named known.program.types (Some access)) (Some t) place.component place.part → SeesToAll known.program.types t → shown_number known.program.types (Some t) ≡ Some of → (number : ℕ) (next : Control) (rooms : Rooms) (holds : Holds) → RunsOn known next rooms holds → AssignsWell known t holds → AdjustedBehind known (Names p) access t place.component (length kinds) (treating (Names p) (begins (Adjustment number) []) (record_tasks types t PartsFirst place.part) next) rooms holds
    adjusted_in t of access p place kinds is has parts sees numbered number next rooms holds runs well =
        let forms = known.program.types in
        let shapes = shown_shapes forms in
        let tasks = record_tasks types t PartsFirst place.part in
        let all : tasks ≡ opened shapes PartsFirst of place.part = tasks_opened t of place.part numbered in
        let lies : WalksTo forms (object_named forms (Some access)) (Some t) place.component place.part = parts.1 (sees.counts of numbered) in
        let covers : Covered (owners_left forms access tasks) place.component kinds =
        subst (λ (left : List Task). Covered (owners_left forms access left) place.component kinds) (sym all) (sees.covers access of place.component place.part numbered lies kinds is) in
        record {
          number = number;
          tasks = tasks;
          behind = next;
          is = refl;
          kinds = kinds;
          components = is;
          counted = refl;
          begins = refl;
          left = record {
            of = of;
            first = place.component;
            part = place.part;
            steps = 0;
            calls = [];
            numbered = numbered;
            lies = lies;
            sees = sees;
            run = subst (λ (last : List Task). Run shapes PartsFirst (opened shapes PartsFirst of place.part) 0 [] last) (sym all) here;
          };
          covers = λ reached at. covered_from (owners_left forms access tasks) place.component (drop place.component reached) kinds (rw at at has) covers;
          runs = aside_there t access next rooms holds runs well;
        }

    -- The target is finalized first, where it has controlled parts; else its components are copied at once.
    begins_assigning : (t : ℕ) (v u : Value) (below : List Value) (kinds : List ComponentKind) → record_components known.program.types t ≡ Some kinds → Target t v kinds → SeesToAll known.program.types t → IsSource s.heap u → LiesIn known s.heap t (whole u) → (whole v ≡ whole u → LieApart known.program.types t (base u) (base v)) → (found : Option Finalization) → finalization_of known.program.types t ≡ found → MayCopy known t → Working known s.heap a.places s.masters (AssignsTo known t k) → Fine known s.heap s.masters (moves Quiet (assigning named types t v u (running k (record a { operands = below }) rest s)))
    begins_assigning t v u below kinds is target sees (p, other, from, there) lies elsewhere found at may w =
        let adjusts = treating (whole v) (begins (Adjustment s.next) []) (record_tasks types t PartsFirst (part_base v)) k in
        let stores = StoresRecord (whole v) (base v) (width_of types t) ∷ adjusts in
        let holder : IsHolder s.heap (whole u) = rw from there in
        let gets : StoresSo known s.heap (whole v) t (base v) (width_of types t) adjusts w.rooms w.holds = rw (width_is known types reaches k a rest s t kinds is, target.is) (gets_so w.rooms w.holds w.rest.0 w.rest.1 found at) in
        stays known Quiet (assigning named types t v u (running k (record a { operands = below }) rest s)) (
          tt,
          by found at (record_tasks types t WholeFirst (part_base v)) (λ none. reaches.2 t none WholeFirst (part_base v)) (reaches.3 t WholeFirst (part_base v)) stores elsewhere
              (at_work w (holder, gets, w.rest.1)),
        ) tt
      where
        gets_so : (rooms : Rooms) (holds : Holds) → RunsOn known k rooms holds → AssignsWell known t holds → (f : Option Finalization) → finalization_of known.program.types t ≡ f
            → StoresSo known s.heap (Names target.o) t target.place.component (length kinds) (treating (Names target.o) (begins (Adjustment s.next) []) (record_tasks types t PartsFirst target.place.part) k) rooms holds
        gets_so rooms holds runs well None none =
            let plain : list_any is_owning kinds ≡ false = rw is at (bare_owns_nothing known.program.types t sees (ap number_in none)) in
            let untreated : record_tasks types t PartsFirst target.place.part ≡ [] = reaches.2 t none PartsFirst target.place.part in
            rw untreated (inl (
              (
                target.x,
                target.found,
                target.listed,
                λ reached there'. (let has : has_record_at (Some reached) target.place.component (Some kinds) ≡ true = rw there' at target.has in to_object (drop target.place.component reached) kinds has plain),
              ),
              to_here (RunsOn known k rooms) holds runs,
            ))
        gets_so rooms holds runs well (Some f) some = inr (
          target.x,
          target.found,
          target.listed,
          adjusted_in t f.number.0 target.x.cell.access target.o target.place kinds is target.has target.parts sees (ap number_in some) s.next k rooms holds runs well,
        )

        by : (f : Option Finalization) → finalization_of known.program.types t ≡ f → (tasks : List Task) → (finalization_of known.program.types t ≡ None → tasks ≡ []) → TasksInside known.program.types t tasks → (stores : Control)
            → CopiesElsewhere known.program.types t (base u) (whole u) stores
            → Working known s.heap a.places s.masters (λ rooms holds. IsHolder s.heap (whole u) × StoresBehind known s.heap t stores rooms holds × AssignsWell known t holds)
            → ReadyIn known Running (treating (whole v) (ends (Assigning s.next)) tasks (Copies (base u) t ∷ stores)) s.heap a.places (whole u ∷ below) s.masters
        by None none tasks empty inside stores apart works =
            rw (empty none) (copies_on known (base u) t stores s.heap a.places (whole u ∷ below) s.masters (at_work works ((works.rest.0, apart), works.rest.1)))
        by (Some f) some tasks empty inside stores apart works =
            treats_ready known (whole v) (ends (Assigning s.next)) tasks (Copies (base u) t ∷ stores) s.heap a.places (whole u ∷ below) s.masters
            ((f, some, may f some), at_work works ((lies, apart), works.rest.1, works.rest.2)) inside

    -- Nothing is done, where they are one.
    pub assigns_fine : (t : ℕ) (operands : List Value) → RefersToRecord known.program.types (cells_of s.heap) t (first_or Null operands) → RefersToRecord known.program.types (cells_of s.heap) t (first_or Null (older operands)) → Working known s.heap a.places s.masters (PassesTo known s.heap a.places operands (Assigns t ∷ k)) → Fine known s.heap s.masters (assigns_next named types t (first_or Null (older operands)) (first_or Null operands) (same (first_or Null (older operands)) (first_or Null operands)) (running k (record a { operands = older (older operands) }) rest s))
    assigns_fine t operands refers target w = go (same (first_or Null (older operands)) (first_or Null operands)) refl
      where
        go : (one : Option Bool) → same (first_or Null (older operands)) (first_or Null operands) ≡ one → Fine known s.heap s.masters (assigns_next named types t (first_or Null (older operands)) (first_or Null operands) one (running k (record a { operands = older (older operands) }) rest s))
        go None alike = tt
        go (Some true) alike =
            let runs = at_less {other = AssignsTo known t k} w w.rest.1 in
            runs_on known k (record a { operands = older (older operands) }) rest s (at_work runs runs.rest.0) Quiet tt
        go (Some false) alike =
            let are = w.rest.0 in
            begins_assigning t (first_or Null (older operands)) (first_or Null operands) (older (older operands)) are.0 are.1 (target_there t (first_or Null (older operands)) are.0 are.1 target are.2) are.3 are.4
            (lies_there t (first_or Null operands) refers are.4)
            (records_apart t (first_or Null (older operands)) (first_or Null operands) target refers are.2 are.4 alike) (finalization_of known.program.types t) refl are.5 (at_less {other = AssignsTo known t k} w w.rest.1)
