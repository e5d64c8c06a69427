-- Record objects are declared with copies of other records as their initial values (3.3.1, 7.6): of Integers and Booleans, or Adjusts see to their components
-- of access types, which count as null until these have ended.

use Rattle.std.proofs.Common.{◌≡◌, ℕ, zero, suc, ◌+◌, ◌==◌, Bool, true, false, if◌then◌else◌, List, [], ◌∷◌, length, take, drop, reverse, Option, Some, None, refl, sym, ap, ◌∙◌, subst, inl, inr, arith}
use Rattle.std.specs.List.{slice_get, slice_set}
use Rattle.ada_parts.specs.declared.tasks.Direction.TheVariants.{PartsFirst}
use Rattle.ada_parts.specs.Law.{Run, here}
use Rattle.ada_parts.specs.Shape.{Shape}
use Rattle.ada_parts.specs.Task.{Task, opened}
use Rattle.ada_program.specs.Controlled.{shapes_of}
use Rattle.ada_program.specs.declared.program.ComponentKind.{ComponentKind}
use Rattle.ada_program.specs.declared.program.TypeDefinition.{TypeDefinition}
use Rattle.ada_program.specs.ProgramForm.{TypeForm}
use Rattle.ada_program.specs.Typed.{count_of, words_of}
use Rattle.ada_program.specs.Walks.{ends}
use Rattle.ada_program.specs.WellFormed.{components_reached, is_record_object, object_named, record_components, variable_kind}
use Rattle.ada_meaning.specs.declared.event.Birth.TheVariants.{Copy}
use Rattle.ada_meaning.specs.declared.state.Id.{Id}
use Rattle.ada_meaning.specs.declared.state.Value.{Value}
use Rattle.ada_meaning.specs.declared.state.Value.TheVariants.{Null, Names}
use Rattle.ada_meaning.specs.Event.{Quiet}
use Rattle.ada_meaning.specs.Heap.{Cell}
use Rattle.ada_meaning.specs.Frame.{DeclaresRecord, begins}
use Rattle.ada_meaning.specs.State.{Activation, Master, height, record_object}
use Rattle.ada_meaning.specs.Step.{all_tasks, tasks_for, made, owning, record_cell}
use Rattle.ada_meaning.specs.Named.{Object, State, named, new_object, create, created}
use Rattle.ada_owners.specs.Keeping.{IsThere}
use Rattle.ada_owners.proofs.Objects.{next_id, at_older, not_past}
use Rattle.ada_tracked.specs.Frames.{View, shifted, blank_values, blanked, number_at}
use Rattle.ada_tracked.proofs.Lists.{is_same, is_apart, untracked_read}
use Rattle.ada_typed.specs.Holding.{HaveKinds, WalksTo, cells_of}
use Rattle.ada_typed.proofs.Values.{OperandKind, AreComputed, AreHeld}
use Rattle.ada_typed.proofs.Control as typed
use Rattle.ada_typed.proofs.Parts.{shown_number, shown_shapes}
use Rattle.ada_sound.proofs.Objects.{get_new, set_new, set_get}
use Rattle.ada_sound.proofs.Alters.{alters_new}
use Rattle.ada_sound.proofs.CopiedOwners.{Original, NamesThere, NameThere, names_still, names_reverse, CopyLeft, Covered, owners_left, hiding}
use Rattle.ada_sound.proofs.Defaults.{Reaches}
use Rattle.ada_sound.proofs.NoneHidden.{shifted_none}
use Rattle.ada_sound.proofs.HiddenOwners.{StoresWell, covered_stores, names_hidden}
use Rattle.ada_sound.proofs.Invariant.{outers, AdjustsAside, AdjustsFirst, AdjustsWell, Known, Control, RunsOn, AdjustsTo, RecordsFrom, Working, Stepped}
use Rattle.ada_sound.proofs.Ready.{running, at_work, treats_ready}
use Rattle.ada_sound.proofs.Records.{NameNothing, Copying, has_place, made_works, nothing_in_hand, recorded_plain}

-- What is hidden is null.
hidden_null : (hidden : List ℕ) (n c j : ℕ) (vs : List Value) (v : Value) → number_at hidden n c ≡ Some j → slice_get (blank_values hidden vs) c ≡ Some v → v ≡ Null
hidden_null [] n c j vs v is at = absurd (cc is)
hidden_null (b ∷ bs) n c j vs v is at = by (λ more kept. hidden_null bs (n + 1) c j vs v more kept) (c == b) refl is
  where
    by : (number_at bs (n + 1) c ≡ Some j → slice_get (blank_values bs vs) c ≡ Some v → v ≡ Null) → (here : Bool) → (c == b) ≡ here → (if here then Some n else number_at bs (n + 1) c) ≡ Some j → v ≡ Null
    by later true same is' =
        let one = is_same c b same in
        elim (set_get (blank_values bs vs) b c Null v at) [ inl h ↦ h.1 | inr h ↦ absurd (h.0 one) ]
    by later false ne is' =
        let apart = is_apart c b ne in
        elim (set_get (blank_values bs vs) b c Null v at) [ inl h ↦ absurd (apart h.0) | inr h ↦ later is' h.1 ]

stored_at : (hidden : List ℕ) (c : ℕ) (vs : List Value) (i : ℕ) (v : Value) → StoresWell hidden c vs → number_at hidden 0 (c + i) ≡ None → slice_get vs i ≡ Some v → (o : Id) → v ≡ Names o → ⊥
stored_at hidden c [] i v well none at = absurd (cc at)
stored_at hidden c (w ∷ vs) zero v well none at =
    let same : w ≡ v = cc at in
    let here : c + 0 ≡ c = omega arith in
    let shown : number_at hidden 0 c ≡ None = rw here at none in
    elim (well.0) [ inl nameless ↦ (λ o is. nameless o (same ∙ is)) | inr h ↦ (let found = h.1 in absurd (cc (found, shown))) ]
stored_at hidden c (w ∷ vs) (suc i) v well none at =
    let next : c + suc i ≡ c + 1 + i = omega arith in
    stored_at hidden (c + 1) vs i v well.1 (rw next at none) at

names_nothing : (vs : List Value) → ((i : ℕ) (v : Value) → slice_get vs i ≡ Some v → (o : Id) → v ≡ Names o → ⊥) → NameNothing vs
names_nothing [] each = tt
names_nothing (v ∷ vs) each = (each 0 v refl, names_nothing vs (λ i u at. each (suc i) u at))

-- Where what is of an access type is hidden, nothing is named.
hidden_nothing : (hidden : List ℕ) (vs : List Value) → StoresWell hidden 0 vs → NameNothing (blank_values hidden vs)
hidden_nothing hidden vs well = names_nothing (blank_values hidden vs) (λ i v at. by i v at (number_at hidden 0 i) refl)
  where
    by : (i : ℕ) (v : Value) → slice_get (blank_values hidden vs) i ≡ Some v → (n : Option ℕ) → number_at hidden 0 i ≡ n → (o : Id) → v ≡ Names o → ⊥
    by i v at (Some j) is o names = let null = hidden_null hidden 0 i j vs v is at in cc (null, names)
    by i v at None is o names =
        let same : 0 + i ≡ i = omega arith in
        stored_at hidden 0 vs i v well (rw same is) (sym (untracked_read hidden 0 i vs is) ∙ at) o names

zero_plus : (d : ℕ) → 0 + d ≡ d
zero_plus d = omega arith

got_there : (heap : List Object) (vs : List Value) (c : ℕ) (v : Value) → NameThere heap vs → slice_get vs c ≡ Some v → NamesThere heap v
got_there heap [] c v names at = absurd (cc at)
got_there heap (w ∷ vs) zero v names at = let same : w ≡ v = cc at in (λ o is. names.0 o (same ∙ is))
got_there heap (w ∷ vs) (suc c) v names at = got_there heap vs c v names.1 at

-- A record object comes to be whose components are those of another one, and then it is adjusted.
module _ (known : Known) (rest : List (Activation Value)) (s : State) (types : List TypeDefinition) (reaches : Reaches known types) (x t : ℕ) (a : Activation Value) (k : Control) (values : List Value) (u : Value) (is : is_record_object t (variable_kind known.program.variables x) ≡ true) (there : slice_get a.places x ≡ Some u)
    (r : ℕ) (first : AdjustsFirst known.program.types t r) (kinds : List ComponentKind) (components : record_components known.program.types r ≡ Some kinds) (have : HaveKinds known.program.types (cells_of s.heap) kinds values) (names : NameThere s.heap values) (original : Original known.program.types s.heap r values) where
  abbrev forms : List TypeForm
  forms = known.program.types

  abbrev shapes : List Shape
  shapes = shown_shapes forms

  abbrev of : ℕ
  of = first.1.0

  abbrev tasks : List Task
  tasks = all_tasks types t PartsFirst

  -- Its owners are hidden, as those of the object of a view.
  abbrev hidden : List ℕ
  hidden = owners_left forms t tasks

  abbrev shown : List ℕ
  shown = shifted 0 hidden

  abbrev view : View
  view = hiding hidden (next_id s.heap)

  abbrev cell : Cell Value
  cell = record_cell named types t (height s.masters) values

  abbrev hidden_cell : Cell Value
  hidden_cell = record_cell named types t (height s.masters) (blank_values shown values)

  abbrev heap : List Object
  heap = create s.heap (words_of types t) cell

  abbrev places : List Value
  places = slice_set a.places x (created s.heap (words_of types t))

  abbrev masters : List Master
  masters = owning (record { number = height s.masters; owned = record_object t }) s.masters

  -- All of its controlled parts are to be adjusted.
  tasks_opened : tasks ≡ opened shapes PartsFirst of 0
  tasks_opened =
      ap (tasks_for (shapes_of types) PartsFirst) (reaches.5 t ∙ (ap (shown_number forms) first.0 ∙ first.1.1))
      ∙ ap (λ (table : List Shape). opened table PartsFirst of 0) (sym reaches.6)

  lies : WalksTo forms (object_named forms (Some t)) (Some r) 0 0
  lies = rw (first.0) ends

  covers : Covered hidden 0 kinds
  covers =
      subst (λ (left : List Task). Covered (owners_left forms t left) 0 kinds) (sym tasks_opened)
      (first.2.covers t of 0 0 first.1.1 lies kinds components)

  well_stored : StoresWell shown 0 values
  well_stored =
      subst (λ (cs : List ℕ). StoresWell cs 0 values) (sym (shifted_none hidden))
      (covered_stores forms (cells_of s.heap) hidden 0 kinds values covers have)

  heap_is : blanked view heap ≡ create s.heap (words_of types t) hidden_cell
  heap_is = rw (get_new s.heap (new_object cell)) (set_new s.heap (new_object cell) (new_object hidden_cell))

  there_later : (p : Id) → IsThere s.heap p → IsThere heap p
  there_later p h = (h.0, at_older s.heap (words_of types t) cell p (not_past s.heap p h.0 h.1) ∙ h.1, h.2)

  abbrev left : CopyLeft forms t r tasks
  left = record {
    of = of;
    first = 0;
    part = 0;
    steps = 0;
    calls = [];
    numbered = first.1.1;
    lies = lies;
    sees = first.2;
    run = subst (λ (last : List Task). Run shapes PartsFirst (opened shapes PartsFirst of 0) 0 [] last) (sym tasks_opened) here;
  }

  adjusts_next : Working known s.heap a.places s.masters (Copying known rest s types x t k) → AdjustsTo known (created s.heap (words_of types t)) tasks k heap places masters
  adjusts_next w =
      let works = made_works known rest s types x t a k (blank_values shown values) u is there
      (λ holding kind. nothing_in_hand (outers known) s.heap a.places holding kind 0 (blank_values shown values) (hidden_nothing shown values well_stored)) w w.rest.0
      {other = λ rooms less. RunsOn known k rooms less × AdjustsWell known t less} w.rest.1 in
      let aside = at_work {other = λ rooms less. RunsOn known k rooms less × AdjustsAside known t r less} works (works.rest.0, (t, works.rest.1, inl refl)) in
      record {
        o = next_id s.heap;
        is = refl;
        x = new_object cell;
        found = get_new s.heap (new_object cell);
        there = refl;
        record_type = r;
        left = left;
        copied = inr (record {
          source = original.source;
          first = original.first;
          part = original.part;
          object = original.object;
          found = at_older s.heap (words_of types t) cell original.source (not_past s.heap original.source original.object original.found) ∙ original.found;
          there = original.there;
          lies = original.lies;
          elsewhere = λ same. absurd (not_past s.heap original.source original.object original.found (sym same));
          holds = λ d p has less outside at. original.holds d (Names p) (ap (λ (n : ℕ). slice_get values n) (sym (zero_plus d)) ∙ at);
        });
        named = names_hidden heap hidden values (λ c v at. got_there heap values c v (names_still s.heap heap values there_later names) at);
        works = rw heap_is aside;
      }

  made_adjusts : Working known s.heap a.places s.masters (Copying known rest s types x t k) → Stepped known s.heap Quiet (made named types x t Copy values (running k a rest s))
  made_adjusts w = record {
    ready = (tt, treats_ready known (created s.heap (words_of types t)) (begins Copy []) tasks k heap places a.operands masters (adjusts_next w) tt);
    alters = alters_new s.heap Quiet (new_object cell) refl;
    says = tt;
  }

-- A record object comes to be with the items of its initial value.
pub recorded_fine : (known : Known) (k : Control) (a : Activation Value) (rest : List (Activation Value)) (s : State) (types : List TypeDefinition) → Reaches known types → (x t : ℕ) (kinds : List OperandKind) → typed.Fits known.program (cells_of s.heap) kinds (DeclaresRecord x t ∷ k) → AreComputed known.program.types (cells_of s.heap) kinds a.operands → AreHeld known.program.types (cells_of s.heap) known.program.variables a.places → Working known s.heap a.places s.masters (RecordsFrom known s.heap a.operands x t k) → Stepped known s.heap Quiet (made named types x t Copy (reverse (take (words_of types t) a.operands)) (running k (record a { operands = drop (words_of types t) a.operands }) rest s))
recorded_fine known k a rest s types reaches x t kinds fits computed held w = by fits w.rest
  where
    by : typed.Fits known.program (cells_of s.heap) kinds (DeclaresRecord x t ∷ k) → RecordsFrom known s.heap a.operands x t k w.rooms w.holds → Stepped known s.heap Quiet (made named types x t Copy (reverse (take (words_of types t) a.operands)) (running k (record a { operands = drop (words_of types t) a.operands }) rest s))
    by fits' (inl plain, recording) = recorded_plain known k a rest s types reaches x t kinds fits' computed held (at_work w (plain, recording))
    by (ks, object, cs, is, of, one, reached, other, more) (inr (r, first, (own, components, names, original)), (of_record, owns, runs)) =
        let counted : words_of types t ≡ length cs = ap count_of (reaches.0 t ∙ reached) in
        let have = (typed.split known.program.types (cells_of s.heap) cs ks a.operands (rw is at computed)).0 in
        let there : components_reached known.program.types (Some r) ≡ Some cs = rw (first.0) at reached in
        let same : own ≡ cs = cc (components, there) in
        let place = has_place known.program.types (cells_of s.heap) known.program.variables a.places x t held of_record in
        made_adjusts known rest s types reaches x t (record a { operands = drop (words_of types t) a.operands }) k (reverse (take (words_of types t) a.operands)) place.0 of_record place.1
        r first cs there (rw counted have) (rw counted (names_reverse s.heap (take (length cs) a.operands) (rw same at names)))
        (rw counted (rw same at original)) (at_work w (owns, runs))
