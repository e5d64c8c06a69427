-- Where the Adjust of a copy is called that tracks components (7.6): where its part begins in the object, which components it tracks, and what waits for it.

use Rattle.std.proofs.Common.{◌≡◌, ℕ, zero, suc, Bool, true, false, List, [], ◌∷◌, length, map, take, refl, sym, ap, ◌∙◌, subst, ◌≢◌, ◌⊎◌, ◌+◌, ◌<◌, ◌++◌}
use Rattle.std.proofs.lemmas.Bool.{eq-eqb}
use Rattle.std.proofs.lemmas.List.Elements.{Contains-append_left}
use Rattle.std.proofs.lemmas.Option.{slice_get-map}
use Rattle.std.specs.List.{slice_get, slice_index_or, Contains}
use Rattle.std.specs.Option.{option_map}
use Rattle.std.specs.Prelude.{Option, Some, None, if◌then◌else◌, ◌==◌}
use Rattle.ada_deeds.specs.Implicit.{implicit_of}
use Rattle.ada_flow.specs.Flow.{adjusts, is_procedure, object_record, tracked_by_adjust, tracked_of, tracks_of}
use Rattle.ada_flow.specs.Tracking.{access_numbers, tracks_behind}
use Rattle.ada_meaning.proofs.Places.{numbers_are_alone, types_have_their_operations}
use Rattle.ada_meaning.specs.Frame.{Treatment}
use Rattle.ada_meaning.specs.Heap.{PartState}
use Rattle.ada_meaning.specs.Named.{Object, State, object_at, on_object}
use Rattle.ada_meaning.specs.Run.{Event}
use Rattle.ada_meaning.specs.State.{Activation}
use Rattle.ada_meaning.specs.Step.{beginning}
use Rattle.ada_meaning.specs.declared.event.Birth.TheVariants.{Creation, Copy, Adjustment}
use Rattle.ada_meaning.specs.declared.event.Birth.{Birth}
use Rattle.ada_meaning.specs.declared.state.Id.{Id}
use Rattle.ada_meaning.specs.declared.state.Value.TheVariants.{Names, Null}
use Rattle.ada_meaning.specs.declared.state.Value.{Value}
use Rattle.ada_owners.specs.Keeping.{IsThere}
use Rattle.ada_owners.specs.Places.{access_at, access_in, is_there}
use Rattle.ada_owners.specs.Reliance.{IsOf}
use Rattle.ada_parts.specs.Shape.{shape_of}
use Rattle.ada_parts.specs.Task.{Task, performs}
use Rattle.ada_program.proofs.Shapes.{same_number}
use Rattle.ada_program.specs.Controlled.{number_in, number_of, operations_of, procedure_number}
use Rattle.ada_program.specs.ProgramForm.{BodyForm, ProgramForm, TypeForm, VariableForm, body_forms, program_form, seen_in, PartForm, record_of, access_to, object_of}
use Rattle.ada_program.specs.WellFormed.{IsWellFormed, access_of, component_kind, finalization_in, held_kind, kind_among, variable_kind, record_components, reached_components, components_reached, named_in, object_in}
use Rattle.ada_program.specs.declared.program.ComponentKind.TheVariants as component
use Rattle.ada_program.specs.declared.program.ComponentKind.{ComponentKind}
use Rattle.ada_program.specs.declared.program.Finalization.{Finalization}
use Rattle.ada_program.specs.declared.program.Operations.{Operations}
use Rattle.ada_program.specs.declared.program.ProcedureNo.{ProcedureNo}
use Rattle.ada_program.specs.declared.program.Program.{Program}
use Rattle.ada_program.specs.declared.program.TypeNo.{TypeNo}
use Rattle.ada_program.specs.declared.program.VariableKind.TheVariants as variable
use Rattle.ada_program.specs.declared.program.VariableKind.{VariableKind}
use Rattle.ada_quiet.specs.Bare.{has_bare_objects}
use Rattle.ada_quiet.specs.InUse.{may_track, count_found}
use Rattle.ada_sound.proofs.Adjusting.{is_one_of}
use Rattle.ada_sound.proofs.AdjustingBegins.{AllName, Copied}
use Rattle.ada_sound.proofs.BareObjects.{holder_is_not_bare}
use Rattle.ada_sound.proofs.Blanked.{blanked_at}
use Rattle.ada_sound.proofs.Callers.{Suspension, known_in}
use Rattle.ada_sound.proofs.Calm.{filled_in}
use Rattle.ada_sound.proofs.CopiedOwners.{BeginsCopy, NameThere, SeesToOwners, declared_owners, hiding, part_owners, CopyLeft, names_still, owners_left, owners_numbered}
use Rattle.ada_sound.proofs.CopyParts.{blanked_behind, head_in, left_called, names_alike, tail_in, watched_hidden}
use Rattle.ada_sound.proofs.Fits.{MayName, component_access}
use Rattle.ada_sound.proofs.Invariant.{AdjustsAside, Control, Known, RunsOn, Working}
use Rattle.ada_sound.proofs.OnlyParts.{IsControlled}
use Rattle.ada_sound.proofs.OnlyPlaces.{shown_as_controlled}
use Rattle.ada_sound.proofs.OnlyRows.{AreCopiedInOrder}
use Rattle.ada_sound.proofs.PartsApart.{PartWithin, beside, called_sees, called_there, left_of_access, owner_below, shifted_cases, type_numbered}
use Rattle.ada_sound.proofs.PutAside.{not_numbered}
use Rattle.ada_sound.proofs.Returns.{same_types}
use Rattle.ada_sound.proofs.Trackers.{order_too}
use Rattle.ada_sound.proofs.TracksWell.{copied_in_order}
use Rattle.ada_sound.proofs.Treatments.{BeginsAdjust}
use Rattle.ada_sound.proofs.TypedAside.{filled_aside}
use Rattle.ada_tracked.proofs.Heaps.{blanked_here}
use Rattle.ada_tracked.proofs.Lists.{apart_is, untracked_values}
use Rattle.ada_tracked.specs.Frames.{View, blank_object, blanked, shifted, values_at, watched, blank_values}
use Rattle.ada_typed.proofs.Calls.{same_filled}
use Rattle.ada_typed.proofs.Control as typed
use Rattle.ada_typed.proofs.Evaluations.{cell_at, own_access}
use Rattle.ada_typed.proofs.Inner.{parts_are_records}
use Rattle.ada_typed.proofs.Lying.{IsOperable, placed}
use Rattle.ada_typed.proofs.Overridings.{beginning_for}
use Rattle.ada_typed.proofs.Parts.{firsts_known, shown_parts, shown_number, shown_shapes}
use Rattle.ada_typed.proofs.Values.{AreFilled, filled_at, parts_at}
use Rattle.ada_typed.specs.Holding.{Cells, Designates, HasKind, HaveKinds, cells_of}

-- In a typed state each object is filled and has its parts, as the program has the types.
pub filled_in_program : (p : ProgramForm) (procedure : Option ℕ) (s : State) → typed.TypedIn (seen_in procedure p) s → AreFilled p.types (cells_of s.heap) (cells_of s.heap)
filled_in_program p procedure s typing = same_filled p procedure (cells_of s.heap) (filled_in (seen_in procedure p) s typing)

-- The kind of the first variable is that of the only formal parameter.
first_kind : (variables : List VariableForm) (n : ℕ) (kind : VariableKind) → map (λ (v : VariableForm). v.kind) (take n variables) ≡ kind ∷ [] → variable_kind variables 0 ≡ Some kind
first_kind variables zero kind h = absurd (cc h)
first_kind [] (suc n) kind h = absurd (cc h)
first_kind (v ∷ vs) (suc n) kind h = let one : v.kind ≡ kind = cc h in ap (λ (k : VariableKind). Some k) one

-- What a body tracks behind its variables.
components_behind : (n : ℕ) (cs : List ℕ) → (tracks_behind n cs).components ≡ cs
components_behind n [] = refl
components_behind n (c ∷ cs) = refl

-- What an object type names is its record type.
object_names : (o : Option TypeForm) (r : ℕ) → object_in o ≡ Some r → named_in o ≡ Some r
object_names None r is = absurd (cc is)
object_names (Some (record_of name parts components finalization)) r is = absurd (cc is)
object_names (Some (access_to name designated pool)) r is = absurd (cc is)
object_names (Some (object_of record_type)) r is = is

-- A procedure is the one of its number.
procedure_is : (n : ℕ) (o : Option ProcedureNo) → procedure_number o ≡ Some n → is_procedure n o ≡ true
procedure_is n None is = absurd (cc is)
procedure_is n (Some q) is = let same : q.0 ≡ n = cc is in eq-eqb q.0 n same

-- After a copy the Adjust is called.
pub adjust_called : (by : Birth) (operations : Operations) (number : ℕ) → BeginsCopy by → beginning by operations ≡ Some number → procedure_number operations.adjust ≡ Some number
adjust_called Creation operations number copies is = absurd copies
adjust_called Copy operations number copies is = is
adjust_called (Adjustment n) operations number copies is = is

-- Where the value of a component names something, the component is of an access type, and what is named is of it.
module _ (types : List TypeForm) (cells : Cells) where
  names_of_kind : (kind : ComponentKind) (q : Id) → HasKind types cells (held_kind kind) (Names q) → (access : ℕ) × (access_of (Some (held_kind kind)) ≡ Some access) × Designates cells access q
  names_of_kind (component.Integer initial) q has = absurd has
  names_of_kind (component.Boolean initial) q has = absurd has
  names_of_kind (component.Access access) q has = (access.0, refl, has)

  names_at : (kinds : List ComponentKind) (vs : List Value) (c : ℕ) (q : Id) → HaveKinds types cells kinds vs → slice_index_or vs c Null ≡ Names q → (access : ℕ) × (access_of (component_kind (slice_get kinds c)) ≡ Some access) × Designates cells access q
  names_at kinds [] c q have is = absurd (cc is)
  names_at [] (v ∷ vs) c q have is = absurd have
  names_at (kind ∷ kinds) (v ∷ vs) zero q have is = names_of_kind kind q (subst (λ (u : Value). HasKind types cells (held_kind kind) u) is have.0)
  names_at (kind ∷ kinds) (v ∷ vs) (suc c) q have is = names_at kinds vs c q have.1 is

-- What is there is of the access type under which it was named.
access_there : (heap : List Object) (q : Id) (access : ℕ) → IsThere heap q → Designates (cells_of heap) access q → access_at heap q ≡ Some access
access_there heap q access there designates =
    let own = own_access heap q access there.0 designates there.1 in
    ap access_in there.1 ∙ ap (λ (b : Bool). if b then Some there.0.cell.access else None) there.2 ∙ ap (λ (n : ℕ). Some n) own

module _ (types : List TypeForm) (heap : List Object) (filled : AreFilled types (cells_of heap) (cells_of heap)) (o : Id) (x : Object) (found : object_at heap o ≡ Some x) where
  component_names : (c : ℕ) → ((q : Id) → slice_index_or x.cell.values c Null ≡ Names q → IsThere heap q) → MayName heap (component_access types x c) (slice_index_or x.cell.values c Null)
  component_names c there q is =
      let f = filled_at types (cells_of heap) (cells_of heap) o.0 x.cell filled (cell_at heap o.0 x found) in
      let k = names_at types (cells_of heap) f.0 x.cell.values c q f.2 is in
      let kind : component_access types x c ≡ Some k.0 = ap (λ (ks : Option (List ComponentKind)). access_of (kind_among ks c)) f.1 ∙ k.1 in
      subst (λ (a : Option ℕ). IsOf (access_at heap) a q) (sym kind) (access_there heap q k.0 (there q is) k.2)

  -- Where what these components name is there, it is of their access types.
  pub all_name : (cs : List ℕ) → NameThere heap (values_at cs x.cell.values) → AllName types heap x cs
  all_name [] there = tt
  all_name (c ∷ cs) there = (component_names c there.0, all_name cs there.1)

-- What is there stays so where components of an object hold null.
there_aside : (w : View) (heap : List Object) (q : Id) → IsThere heap q → IsThere (blanked w heap) q
there_aside w heap q there =
    let alike = blanked_at w heap q there.0 there.1 in
    (alike.object, alike.found, ap is_there alike.alike.stage ∙ there.2)

-- A component that a list has not is none of it.
pub not_one : (owners : List ℕ) (c : ℕ) → (Contains owners c → ⊥) → is_one_of owners c ≡ false
not_one [] c none = refl
not_one (d ∷ owners) c none =
    let apart : (d == c) ≡ false = apart_is d c (λ e. none (subst (λ (b : ℕ). Contains (d ∷ owners) b) e (head_in d owners))) in
    rw apart (not_one owners c (λ has. none (tail_in d c owners has)))

-- Components hold what they hold where others hold null.
values_beside : (bs cs : List ℕ) (vs : List Value) → ((c : ℕ) → Contains bs c → Contains cs c → ⊥) → values_at bs (blank_values cs vs) ≡ values_at bs vs
values_beside bs [] vs none = refl
values_beside bs (c ∷ cs) vs none =
    untracked_values bs 0 c Null (blank_values cs vs) (not_numbered bs 0 c (not_one bs c (λ has. none c has (head_in c cs))))
    ∙ values_beside bs cs vs (λ d has later. none d has (tail_in c d cs later))

module _ (program : Program) (well : IsWellFormed (program_form program)) where
  abbrev p : ProgramForm
  p = program_form program

  -- What is called for a controlled record is what its type overrides.
  pub own_operations :
      (r of : ℕ) (name : List ℕ) (parts : List PartForm) (components : List ComponentKind) (f : Finalization)
      → slice_get p.types r ≡ Some (record_of name parts components (Some f)) → shown_number p.types (Some r) ≡ Some of
      → operations_of program.types.items of ≡ f.operations
  own_operations r of name parts components f at numbered =
      let said : Some of ≡ Some f.number.0 = sym numbered ∙ ap (λ (o : Option TypeForm). number_in (finalization_in o)) at in
      let number : of ≡ f.number.0 = cc said in
      let known : number_of program.types.items (Some r) ≡ Some f.number.0 = same_number program.types.items r ∙ ap (λ (o : Option TypeForm). number_in (finalization_in o)) at in
      ap (operations_of program.types.items) number
      ∙ types_have_their_operations program r parts f (name, components, at) (λ u is. numbers_are_alone program u r f.number.0 well is known)

  -- What an adjustment calls is the Adjust that the record's type overrides.
  pub own_adjust :
      (r of : ℕ) (s : SeesToOwners p.types r of) (by : Birth) → BeginsCopy by → (number : ℕ) → beginning by (operations_of program.types.items of) ≡ Some number
      → procedure_number s.finalization.operations.adjust ≡ Some number
  own_adjust r of s by copies number called =
      sym (ap (λ (operations : Operations). procedure_number operations.adjust) (own_operations r of s.name s.parts s.components s.finalization s.at s.numbered))
      ∙ adjust_called by (operations_of program.types.items of) number copies called

  -- The formal parameter of what is called for a record is known by that record type.
  formal_object :
      (r of : ℕ) → shown_number p.types (Some r) ≡ Some of → (by : Birth) (number : ℕ) (b : BodyForm) → slice_get p.bodies number ≡ Some b
      → beginning by (operations_of program.types.items of) ≡ Some number
      → (object : TypeNo) × (variable_kind b.variables 0 ≡ Some (variable.Record object)) × (object_in (slice_get p.types object.0) ≡ Some r)
  formal_object r of numbered by number b there called =
      let operation = beginning_for p program.types.items refl well.operations_fit by of number called in
      let at = operation.there in
      let one : operation.body ≡ b = cc (at, there) in
      let first = first_kind operation.body.variables (length operation.body.formals) (variable.Record operation.object) operation.formals in
      let kind : variable_kind b.variables 0 ≡ Some (variable.Record operation.object) = subst (λ (c : BodyForm). variable_kind c.variables 0 ≡ Some (variable.Record operation.object)) one first in
      let same : operation.record_type ≡ r = numbers_are_alone program operation.record_type r of well (same_number program.types.items operation.record_type ∙ operation.numbered) (same_number program.types.items r ∙ numbered) in
      (operation.object, kind, operation.known_by ∙ ap (λ (t : ℕ). Some t) same)

  -- So the components by which it is known are those of the record.
  pub formal_components :
      (r of : ℕ) → shown_number p.types (Some r) ≡ Some of → (by : Birth) (number : ℕ) (b : BodyForm) → slice_get p.bodies number ≡ Some b
      → beginning by (operations_of program.types.items of) ≡ Some number → (object : TypeNo) → variable_kind b.variables 0 ≡ Some (variable.Record object)
      → reached_components p.types object.0 ≡ record_components p.types r
  formal_components r of numbered by number b there called object is =
      let own = formal_object r of numbered by number b there called in
      let twice : Some (variable.Record object) ≡ Some (variable.Record own.0) = sym is ∙ own.1 in
      let one : object ≡ own.0 = cc twice in
      ap (λ (t : TypeNo). reached_components p.types t.0) one ∙ ap (components_reached p.types) (object_names (slice_get p.types own.0.0) r own.2)

  -- An Adjust that sees to the components of access types of a record tracks all that are declared in it.
  pub tracks_declared :
      (r of : ℕ) (by : Birth) (number : ℕ) (b : BodyForm) → SeesToOwners p.types r of → BeginsCopy by → slice_get p.bodies number ≡ Some b
      → beginning by (operations_of program.types.items of) ≡ Some number → (tracks_of p.types number b).components ≡ declared_owners p.types r
  tracks_declared r of by number b s copies there called =
      let own = formal_object r of s.numbered by number b there called in
      let record_is : object_record p.types (variable_kind b.variables 0) ≡ Some r = ap (object_record p.types) own.1 ∙ own.2 in
      components_behind (length b.variables) (tracked_by_adjust p.types number (object_record p.types (variable_kind b.variables 0)))
      ∙ ap (tracked_by_adjust p.types number) record_is ∙ tracked
    where
      overrides : adjusts number (Some s.finalization) ≡ true
      overrides = procedure_is number s.finalization.operations.adjust (own_adjust r of s by copies number called)

      tracked : tracked_of number (slice_get p.types r) ≡ declared_owners p.types r
      tracked =
          ap (tracked_of number) s.at ∙ ap (λ (c : Bool). if c then access_numbers s.parts else []) overrides
          ∙ sym (ap (λ (d : Option TypeForm). access_numbers (shown_parts d)) s.at)

  -- The Adjust of a part of a record is called that was copied into an object: the part lies there.
  module _ (access r of part : ℕ) (tasks : List Task) (left : CopyLeft p.types access r (performs of part ∷ tasks)) where
    abbrev pub called_record : PartWithin p.types access r left.first left.part of part
    called_record = called_there program well access r of part tasks left

    -- It is of this type, and controlled itself.
    abbrev u : ℕ
    u = called_record.placed.record_type

    abbrev c : IsControlled p.types u
    c = called_record.placed.controlled

    -- It is one whose operations are called.
    pub called_operable : IsOperable p.types access of part
    called_operable =
        let shown = shown_as_controlled p.types well.types_fit u c in
        let twice : Some c.finalization.number.0 ≡ Some of = sym shown.0 ∙ called_record.placed.numbered in
        let number : c.finalization.number.0 ≡ of = cc twice in (
          placed u of called_record.placed.base part called_record.placed.numbered called_record.placed.walk,
          subst (λ (n : ℕ). (shape_of (shown_shapes p.types) n).controlled ≡ true) number shown.1,
        )

    -- If it declares components of access types, its Adjust sees to them.
    pub called_owners : owners_numbered p.types of ≢ [] → SeesToOwners p.types u of
    called_owners some =
        let s = called_sees program well access r of part tasks left some in
        let same : s.0 ≡ u =
        numbers_are_alone program s.0 u of well (same_number program.types.items s.0 ∙ s.1.numbered) (same_number program.types.items u ∙ called_record.placed.numbered) in
        subst (λ (n : ℕ). SeesToOwners p.types n of) same s.1

    -- The part begins where the record does.
    pub called_begins :
        (heap : List Object) → AreFilled p.types (cells_of heap) (cells_of heap) → (o : Id) (x : Object) → object_at heap o ≡ Some x → x.cell.access ≡ access
        → (q : PartState) → slice_get x.cell.parts part ≡ Some q → q.first ≡ called_record.placed.base
    called_begins heap filled o x found of_access q at =
        let parts = parts_at p.types (cells_of heap) (cells_of heap) o.0 x.cell filled (cell_at heap o.0 x found) in
        let begins : slice_get (firsts_known p.types x.cell.access) part ≡ Some q.first =
        ap (λ (cs : List ℕ). slice_get cs part) (sym parts.1) ∙ slice_get-map (λ (s : PartState). s.first) x.cell.parts part ∙ ap (option_map (λ (s : PartState). s.first)) at in
        let two : Some q.first ≡ Some called_record.placed.base =
        sym begins ∙ ap (λ (a : ℕ). slice_get (firsts_known p.types a) part) of_access ∙ called_record.placed.starts in
        cc two

    -- No access value of a type whose objects are bare names the object.
    pub called_parted : has_bare_objects p.types access ≡ false
    called_parted =
        let there = parts_are_records program well access of part called_record.placed.base u called_operable called_record.placed.starts called_record.placed.numbered in
        holder_is_not_bare program well u c.finalization (ap finalization_in c.declared) access called_record.placed.base part there.1

    -- No component of it is one that the Adjusts see to that are left.
    pub called_beside :
        AreCopiedInOrder p.types → (d : ℕ) → d < count_found (record_components p.types u) → Contains (owners_left p.types access tasks) (called_record.placed.base + d) → ⊥
    called_beside rows d less has =
        beside program well rows access r of part tasks left u called_record.placed.base called_record.placed.numbered called_record.placed.walk d less has

    -- So its own owners are none of these.
    called_apart : AreCopiedInOrder p.types → (e : ℕ) → Contains (part_owners p.types access (record { of = of; number = part })) e → Contains (owners_left p.types access tasks) e → ⊥
    called_apart rows e has left_has =
        let base = called_record.placed.base in
        let own = subst (λ (cs : List ℕ). Contains cs e) called_record.placed.owners has in
        let found = shifted_cases base (declared_owners p.types u) e own in
        called_beside rows found.0 (owner_below p.types rows u found.0 c found.1) (subst (λ (n : ℕ). Contains (owners_left p.types access tasks) n) found.2 left_has)

    -- What its own owners hold is the same where those are put aside that are left.
    pub called_values :
        AreCopiedInOrder p.types → (vs : List Value)
        → values_at (part_owners p.types access (record { of = of; number = part })) (blank_values (owners_left p.types access tasks) vs)
        ≡ values_at (part_owners p.types access (record { of = of; number = part })) vs
    called_values rows vs = values_beside (part_owners p.types access (record { of = of; number = part })) (owners_left p.types access tasks) vs (called_apart rows)

    -- What is left behind it.
    pub called_left : CopyLeft p.types access r tasks
    called_left = left_called p.types access r (performs of part ∷ tasks) left of part refl

  -- The Adjust of a copy is called, which is the next step of a treatment.
  module _
      (may : may_track p ≡ true) (a : Activation Value) (rest : List (Activation Value)) (s : State) (gs : List Suspension) (v : Value) (k : Control) (IsOperated : Treatment → Id → ℕ → Type 0) (e : Event) (after : State)
      (c : BeginsAdjust (known_in program a.procedure gs) a rest s program.types.items (body_forms program) v k IsOperated e after) (filled : AreFilled p.types (cells_of s.heap) (cells_of s.heap))
    where
      abbrev known : Known
      known = known_in program a.procedure gs

      abbrev x : Object
      x = c.to.x

      abbrev o : Id
      o = c.to.o

      abbrev access : ℕ
      access = x.cell.access

      abbrev r : ℕ
      r = c.to.record_type

      abbrev same : known.program.types ≡ p.types
      same = same_types a.procedure p

      abbrev rows : AreCopiedInOrder p.types
      rows = copied_in_order p well (order_too p may)

      -- What stands for the object: the body's variables for its tracked components.
      abbrev pub copy_view : View
      copy_view = record { tracks = tracks_of p.types c.number c.b; object = o; base = c.p.first }

      -- What is left to be adjusted before it is called.
      abbrev pub copy_left : CopyLeft p.types access r (performs c.of c.part ∷ c.tasks)
      copy_left = subst (λ (types : List TypeForm). CopyLeft types access r (performs c.of c.part ∷ c.tasks)) same c.to.left

      -- The record whose Adjust is called.
      abbrev pub copy_record : PartWithin p.types access r copy_left.first copy_left.part c.of c.part
      copy_record = called_record access r c.of c.part c.tasks copy_left

      -- Its Adjust sees to what it declares.
      pub copy_sees : SeesToOwners p.types copy_record.placed.record_type c.of
      copy_sees = called_owners access r c.of c.part c.tasks copy_left (subst (λ (types : List TypeForm). owners_numbered types c.of ≢ []) same c.owns)

      -- Its part is where it lies.
      pub copy_begins : c.p.first ≡ copy_record.placed.base
      copy_begins = called_begins access r c.of c.part c.tasks copy_left s.heap filled o x c.to.found refl c.p c.state

      -- What the body tracks is all that the record declares of access types.
      pub copy_tracks : (tracks_of p.types c.number c.b).components ≡ declared_owners p.types copy_record.placed.record_type
      copy_tracks = tracks_declared copy_record.placed.record_type c.of c.by c.number c.b copy_sees c.copies c.there c.called

      -- It declares some.
      pub copy_declares : declared_owners p.types copy_record.placed.record_type ≢ []
      copy_declares none =
          let some = subst (λ (types : List TypeForm). owners_numbered types c.of ≢ []) same c.owns in
          some (ap (λ (d : Option TypeForm). access_numbers (shown_parts d)) (type_numbered program well copy_record.placed.record_type c.of copy_record.placed.controlled copy_record.placed.numbered) ∙ none)

      -- The components of the object that its own Adjust sees to.
      abbrev own_owners : List ℕ
      own_owners = part_owners p.types access (record { of = c.of; number = c.part })

      -- Those that the Adjusts see to that are left.
      abbrev pub copy_owners : List ℕ
      copy_owners = owners_left p.types access c.tasks

      -- So its own are watched.
      copy_watched : watched copy_view ≡ own_owners
      copy_watched =
          ap (λ (base : ℕ). shifted base (tracks_of p.types c.number c.b).components) copy_begins
          ∙ ap (λ (cs : List ℕ). shifted copy_record.placed.base cs) copy_tracks ∙ sym copy_record.placed.owners

      -- The heap in which the others are put aside, and the object there.
      abbrev pub copy_heap : List Object
      copy_heap = blanked (hiding copy_owners o) s.heap

      abbrev pub copy_object : Object
      copy_object = blank_object (watched (hiding copy_owners o)) x

      pub copy_found : object_at copy_heap o ≡ Some copy_object
      copy_found = blanked_here (hiding copy_owners o) s.heap x c.to.found

      -- They are of access types, so objects are as their types say still.
      pub copy_of_access : (d : ℕ) → Contains copy_owners d → (t : TypeNo) × (kind_among (reached_components p.types access) d ≡ Some (variable.Access t))
      copy_of_access d has = left_of_access program well access r c.tasks (called_left access r c.of c.part c.tasks copy_left) d has

      pub copy_filled : AreFilled p.types (cells_of copy_heap) (cells_of copy_heap)
      copy_filled = (filled_aside p copy_owners o s.heap x c.to.found copy_of_access filled).filled

      -- So the same components hold null as where the treatment waits for it.
      copy_blanked : blanked copy_view copy_heap ≡ blanked (hiding (owners_left p.types access (performs c.of c.part ∷ c.tasks)) o) s.heap
      copy_blanked =
          ap (λ (cs : List ℕ). on_object (blank_object cs) copy_heap (Names o)) (copy_watched ∙ sym (watched_hidden own_owners o))
          ∙ sym (blanked_behind own_owners copy_owners o s.heap)

      -- So it is as the waiting activation knows the types.
      copy_blanked_seen : blanked copy_view copy_heap ≡ blanked (hiding (owners_left known.program.types access (performs c.of c.part ∷ c.tasks)) o) s.heap
      copy_blanked_seen =
          subst (λ (types : List TypeForm). blanked copy_view copy_heap ≡ blanked (hiding (owners_left types access (performs c.of c.part ∷ c.tasks)) o) s.heap) (sym same) copy_blanked

      -- What they name is there.
      copy_named : NameThere s.heap (values_at (own_owners ++ copy_owners) x.cell.values)
      copy_named = subst (λ (types : List TypeForm). NameThere s.heap (values_at (owners_left types access (performs c.of c.part ∷ c.tasks)) x.cell.values)) same c.to.named

      -- So it is with its own, where those are put aside.
      own_named : NameThere copy_heap (values_at own_owners copy_object.cell.values)
      own_named =
          let real = names_alike s.heap (own_owners ++ copy_owners) own_owners x.cell.values (λ d has. Contains-append_left own_owners copy_owners d has) copy_named in
          let still = names_still s.heap copy_heap (values_at own_owners x.cell.values) (λ q there. there_aside (hiding copy_owners o) s.heap q there) real in
          let values : values_at own_owners copy_object.cell.values ≡ values_at own_owners x.cell.values =
          ap (λ (cs : List ℕ). values_at own_owners (blank_values cs x.cell.values)) (watched_hidden copy_owners o)
          ∙ called_values access r c.of c.part c.tasks copy_left rows x.cell.values in
          subst (λ (vs : List Value). NameThere copy_heap vs) (sym values) still

      -- What each of its own names is of its access type.
      copy_names : AllName p.types copy_heap copy_object (watched copy_view)
      copy_names =
          subst (λ (cs : List ℕ). AllName p.types copy_heap copy_object cs) (sym copy_watched)
          (all_name p.types copy_heap copy_filled o copy_object copy_found own_owners own_named)

      -- The object is a declared one.
      pub copy_parted : has_bare_objects p.types access ≡ false
      copy_parted = called_parted access r c.of c.part c.tasks copy_left

      -- The waiting activation goes on but for them.
      pub copy_works : Working known (blanked copy_view copy_heap) a.places s.masters (λ rooms holds. RunsOn known k rooms holds × AdjustsAside known access r holds)
      copy_works =
          subst (λ (h : List Object). Working known h a.places s.masters (λ rooms holds. RunsOn known k rooms holds × AdjustsAside known access r holds)) (sym copy_blanked_seen)
          c.to.works

      -- The record that is copied, or the object: the body frees no more than its Adjusts may.
      abbrev pub copied_type : ℕ
      copied_type = copy_works.rest.1.0

      pub copy_among : (copied_type ≡ access) ⊎ (copied_type ≡ r)
      copy_among = copy_works.rest.1.2

      -- No component of the record is among those that are put aside.
      pub copy_beside : (d : ℕ) → d < count_found (record_components p.types copy_record.placed.record_type) → Contains copy_owners (c.p.first + d) → ⊥
      copy_beside d less has =
          called_beside access r c.of c.part c.tasks copy_left rows d less (subst (λ (base : ℕ). Contains copy_owners (base + d)) copy_begins has)

      -- All that holds where the body begins.
      pub copied_where_called : Copied known ((implicit_of p).adjust_frees copied_type) o copy_object r copy_view k copy_heap a.places s.masters
      copied_where_called = record {
        object_so = refl;
        found = copy_found;
        exists = c.to.there;
        parted = subst (λ (types : List TypeForm). has_bare_objects types access ≡ false) (sym same) copy_parted;
        names = subst (λ (types : List TypeForm). AllName types copy_heap copy_object (watched copy_view)) (sym same) copy_names;
        works = copy_works;
        spares = copy_works.rest.1.1.0;
        unaliased = copy_works.rest.1.1.1;
      }
