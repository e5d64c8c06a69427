-- The object in which a component lies that is freed (13.11.2): the end of what the component names reaches none of its type. Flow sees to it: where the path
-- follows access values (4.1), of the one that is followed last; and where the path begins with a formal parameter and follows none, of all access types whose
-- objects have a part of its record type (6.2).

use Rattle.std.proofs.Common.{◌≡◌, ◌≢◌, ℕ, Bool, true, false, List, [], ◌∷◌, refl, sym, ap, subst, ◌∙◌, ◌⊎◌, inl, inr}
use Rattle.std.specs.Prelude.{Option, Some, None, is_some}
use Rattle.std.specs.List.{slice_get}
use Rattle.std.proofs.lemmas.Bool.{false_from_ne_true}
use Rattle.ada_program.specs.declared.program.ComponentKind.{ComponentKind}
use Rattle.ada_program.specs.declared.program.TypeNo.{TypeNo}
use Rattle.ada_program.specs.declared.program.VariableKind.{VariableKind}
use Rattle.ada_program.specs.declared.program.VariableKind.TheVariants as variable
use Rattle.ada_program.specs.Form.{PathForm}
use Rattle.ada_program.specs.Parts.{HasPart}
use Rattle.ada_program.specs.ProgramForm.{TypeForm, record_of, access_to, object_of, VariableForm}
use Rattle.ada_program.specs.WellFormed.{access_of, components_reached, designated_in, designated_type, has_record_at, is_access, is_record, named_in, object_in, object_named, reached_components, variable_kind, selected_kind, selectors_kind, root_kind}
use Rattle.ada_effects.specs.Effects.{Implicit, follows_value, path_raises}
use Rattle.ada_flow.specs.declared.rule.Hold.{Hold}
use Rattle.ada_flow.specs.declared.rule.Hold.TheVariants as hold
use Rattle.ada_flow.specs.Aliases.{is_alias}
use Rattle.ada_flow.specs.Flow.{Holds, formal_reached, formal_record, hold_at, passes_freed, passes_reached, reaches_part}
use Rattle.ada_flow.specs.Parts.{designate_part, has_part}
use Rattle.ada_flow.proofs.Parts.{depths_are_enough, designate_from}
use Rattle.ada_meaning.specs.declared.state.Id.{Id}
use Rattle.ada_meaning.specs.declared.state.Place.{Place}
use Rattle.ada_meaning.specs.declared.state.Value.{Value}
use Rattle.ada_meaning.specs.declared.state.Value.TheVariants.{Part}
use Rattle.ada_meaning.specs.Heap.{Cell}
use Rattle.ada_meaning.specs.Named.{Object, inside}
use Rattle.ada_meaning.specs.Step.{before_last}
use Rattle.ada_owners.specs.Places.{access_at}
use Rattle.ada_owners.proofs.Objects.{present_at}
use Rattle.ada_typed.specs.Holding.{Cells, HasPartOf, LiesIn, cells_of}
use Rattle.ada_typed.proofs.Evaluations.{cell_at}
use Rattle.ada_typed.proofs.Values.{AreHeld, active_held}
use Rattle.ada_sound.proofs.Fits.{Fit, IsPlain, IsSaid, Outsiders, Reference, bare, names_object, place_at}
use Rattle.ada_sound.proofs.Begins.{Root, IsAlone, IsPart, first_leads, freed_is, from_root, passed_last}
use Rattle.ada_sound.proofs.Invariant.{AreObjects}

-- A path that begins with a variable that is no record object does not begin with one that is.
no_record : (types : List TypeForm) (kind : Option VariableKind) (c : ℕ) (to : VariableKind) → selectors_kind types (root_kind false kind) (c ∷ []) ≡ Some to
    → names_object kind ≡ true → ⊥
no_record types None c to leads object = cc object
no_record types (Some variable.Integer) c to leads object = cc object
no_record types (Some variable.Boolean) c to leads object = cc object
no_record types (Some (variable.Access access)) c to leads object = cc object
no_record types (Some (variable.Record t)) c to leads object = cc leads

-- The value that is followed last is of the kind that the path says, wherever the path begins.
holder_kind : {types : List TypeForm} {referenced : List Reference} {heap : List Object} {kind : Option VariableKind} {v : Value}
    (b : Root types referenced heap kind v) (of_record : Bool) (c : ℕ) (cs : List ℕ) (to : VariableKind)
    → selectors_kind types (root_kind of_record kind) (c ∷ cs) ≡ Some to → follows_value of_record (c ∷ cs) ≡ true
    → selectors_kind types b.from (before_last (inside v c) cs) ≡ selectors_kind types kind (before_last c cs)
holder_kind b true c [] to leads follows = absurd (cc follows)
holder_kind {types = types} {referenced = referenced} {kind = kind} {v = v} b false c [] to leads follows = by b.is
  where
    by : IsAlone kind b.from v ⊎ IsPart types referenced kind b.from v → b.from ≡ kind
    by (inl a) = a.2
    by (inr a) = absurd (no_record types kind c to leads a.object)
holder_kind {types = types} {kind = kind} {v = v} b of_record c (d ∷ ds) to leads follows =
    let h = first_leads types kind c (d ∷ ds) to (from_root types of_record kind (c ∷ d ∷ ds) to leads) in
    let same : selected_kind types b.from (inside v c) ≡ selected_kind types kind c = b.leads c [] h.0 h.1 ∙ sym h.1 in
    ap (λ (k : Option VariableKind). selectors_kind types k (before_last d ds)) same

-- Where a path may follow no values of access types that the end of an object reaches, its end does not reach the type of the value that is followed last.
passed_spared : (types : List TypeForm) (variables : List VariableForm) (implicit : Implicit) (path : PathForm) (c : ℕ) (cs : List ℕ) (access : Option ℕ)
    (t u : ℕ) → path.selectors ≡ c ∷ cs → access ≡ Some t → passes_reached types variables implicit path access ≡ false
    → access_of (selectors_kind types (variable_kind variables path.root) (before_last c cs)) ≡ Some u → implicit.end_reaches t u ≡ false
passed_spared types variables implicit path c cs None t u is same none of = absurd (cc same)
passed_spared types variables implicit path c cs (Some own) t u is same none of =
    let one : own ≡ t = cc same in
    let passes : passes_freed types (implicit.end_reaches t) (variable_kind variables path.root) (c ∷ cs) ≡ false = rw (one, is) at none in
    freed_is (implicit.end_reaches t) (access_of (selectors_kind types (variable_kind variables path.root) (before_last c cs))) u of
    (passed_last types (implicit.end_reaches t) (variable_kind variables path.root) c cs passes)

-- A path that follows no value begins with a record, and selects one component of it.
stays_there : (of_record : Bool) (c : ℕ) (cs : List ℕ) → follows_value of_record (c ∷ cs) ≡ false → (of_record ≡ true) × (cs ≡ [])
stays_there false c cs none = absurd (cc none)
stays_there true c [] none = (refl, refl)
stays_there true c (d ∷ ds) none = absurd (cc none)

-- Such a path begins with a variable that is a record object, or stands for a record.
record_root : (types : List TypeForm) (kind : Option VariableKind) (c : ℕ) (to : VariableKind) → selectors_kind types (root_kind true kind) (c ∷ []) ≡ Some to
    → (object : TypeNo) × (kind ≡ Some (variable.Record object))
record_root types None c to leads = absurd (cc leads)
record_root types (Some variable.Integer) c to leads = absurd (cc leads)
record_root types (Some variable.Boolean) c to leads = absurd (cc leads)
record_root types (Some (variable.Access access)) c to leads = absurd (cc leads)
record_root types (Some (variable.Record object)) c to leads = (object, refl)

-- What an access type designates its values name.
designates_named : (o : Option TypeForm) → is_some (designated_in o) ≡ true → (whole : ℕ) × (designated_in o ≡ Some whole) × (named_in o ≡ Some whole)
designates_named None is = absurd (cc is)
designates_named (Some (record_of name parts components finalization)) is = absurd (cc is)
designates_named (Some (access_to name designated pool)) is = (designated, refl, refl)
designates_named (Some (object_of r)) is = absurd (cc is)

-- A type whose values name records, and that is no access type, is that of a record object.
named_object : (o : Option TypeForm) (r : ℕ) → is_some (designated_in o) ≡ false → named_in o ≡ Some r → object_in o ≡ Some r
named_object None r none is = absurd (cc is)
named_object (Some (record_of name parts components finalization)) r none is = absurd (cc is)
named_object (Some (access_to name designated pool)) r none is = absurd (cc none)
named_object (Some (object_of record_type)) r none is = is

-- Where components of a record lie among others, it has some.
has_some : (reached ks : Option (List ComponentKind)) (first : ℕ) → has_record_at reached first ks ≡ true → is_some ks ≡ true
has_some None ks first has = absurd (cc has)
has_some (Some cs) None first has = absurd (cc has)
has_some (Some cs) (Some ks) first has = refl

-- What has components is a record.
reached_record : (types : List TypeForm) (o : Option ℕ) → is_some (components_reached types o) ≡ true → (r : ℕ) × (o ≡ Some r) × (is_record types r ≡ true)
reached_record types None some = absurd (cc some)
reached_record types (Some r) some = (r, refl, some)

-- Where a record lies that is known by an object's type, objects of an access type have a part of its record type.
record_lies : (types : List TypeForm) (cells : Cells) (u t : ℕ) (o : Id) (place : Place) (cell : Cell Value) → slice_get cells o.0 ≡ Some cell → cell.access ≡ u
    → is_access types t ≡ false → is_access types u ≡ true → LiesIn types cells t o place
    → (r whole : ℕ) × (object_in (slice_get types t) ≡ Some r) × (designated_type types u ≡ Some whole) × (has_part types r whole ≡ true)
record_lies types cells u t o place cell at of none access (there, found, has, lie) =
    let one : there ≡ cell = cc (found, at) in
    let some = has_some (reached_components types there.access) (reached_components types t) place.component has in
    let record_type = reached_record types (named_in (slice_get types t)) some in
    let names = designates_named (slice_get types u) access in
    let part : HasPartOf types (object_named types (Some there.access)) (object_named types (Some t)) = lie.2 in
    let part_here : HasPart types record_type.0 names.0 = rw (one, of, names.2, record_type.1) at part in
    (record_type.0, names.0, named_object (slice_get types t) record_type.0 none record_type.1, names.1, (depths_are_enough types record_type.0 names.0 record_type.2).1 part_here)

-- What refers to a record, and is not lost, is is_another.
is_another : (given : Value) (h : Hold) (v : Value) (o : Id) (place : Place) → v ≡ Part o place → IsSaid given h v → h ≢ hold.Lost → is_alias h ≡ true
is_another given hold.Null v o place is said ne = absurd (cc (is, said))
is_another given (hold.Kept r) v o place is said ne = absurd (subst IsPlain is said.1)
is_another given (hold.Own r) v o place is said ne = absurd (subst IsPlain is said)
is_another given (hold.Alias r) v o place is said ne = refl
is_another given hold.Lost v o place is said ne = absurd (ne refl)

module _ {types : List TypeForm} {variables : List VariableForm} {outer : Outsiders} {spared : Id → Bool} {heap : List Object} {places : List Value} {holds : Holds} (f : Fit types variables outer spared heap places holds) (held : AreHeld types (cells_of heap) variables places) (objects : AreObjects types variables) (implicit : Implicit) (path : PathForm) (kept : hold_at holds path.root ≢ hold.Lost) where
  -- Where the path begins with a formal parameter that stands for a record, no object is reached that may be the one in which the record lies.
  formal_aside : (c t u : ℕ) → path.selectors ≡ c ∷ [] → (object : TypeNo) → variable_kind variables path.root ≡ Some (variable.Record object)
      → (o : Id) (place : Place) → place_at places path.root ≡ Part o place → access_at heap o ≡ Some u → is_access types u ≡ true
      → formal_reached types variables implicit path (hold_at holds path.root) (Some t) ≡ false → implicit.end_reaches t u ≡ false
  formal_aside c t u is object kind o place refers there access none =
      let alias = is_another (place_at outer.given path.root) (hold_at holds path.root) (place_at places path.root) o place refers (f.said path.root) kept in
      let lies : LiesIn types (cells_of heap) object.0 o place = rw refers at (active_held types (cells_of heap) variables [] (bare places ∷ []) path.root (variable.Record object) (held, tt) kind) in
      let present = present_at heap o u there in
      let h = record_lies types (cells_of heap) u object.0 o place present.object.cell (cell_at heap o.0 present.object present.found) present.access (objects path.root object kind) access lies in
      let formal : formal_record types variables path (hold_at holds path.root) ≡ Some h.0 = rw (alias, is, kind) h.2 in
      false_from_ne_true (implicit.end_reaches t u) (λ known. (
      let reached : designate_part types (implicit.end_reaches t) h.0 ≡ true = designate_from types (implicit.end_reaches t) h.0 u h.1 known h.3 h.4 in
      let all : formal_reached types variables implicit path (hold_at holds path.root) (Some t) ≡ true = ap (reaches_part types implicit t) formal ∙ reached in
      cc (none, all)
      ))

  -- So the end of what the component names reaches none of the type of the object in which it lies.
  pub holder_aside : (b : Root types outer.referenced heap (variable_kind variables path.root) (place_at places path.root)) (c : ℕ) (cs : List ℕ) (to : VariableKind)
      (access : Option ℕ) (t u : ℕ) → path.selectors ≡ c ∷ cs
      → selectors_kind types (root_kind path.of_record (variable_kind variables path.root)) (c ∷ cs) ≡ Some to → access ≡ Some t
      → passes_reached types variables implicit path access ≡ false → formal_reached types variables implicit path (hold_at holds path.root) access ≡ false
      → access_of (selectors_kind types b.from (before_last (inside (place_at places path.root) c) cs)) ≡ Some u → is_access types u ≡ true
      → implicit.end_reaches t u ≡ false
  holder_aside b c cs to access t u is leads same none formal holder is_holder = by (path_raises path) refl
    where
      kind : Option VariableKind
      kind = variable_kind variables path.root

      v : Value
      v = place_at places path.root

      -- The path selects one component of a record.
      inside_here : (ds : List ℕ) → cs ≡ ds → ds ≡ [] → path.of_record ≡ true → implicit.end_reaches t u ≡ false
      inside_here (d ∷ ds) at empty of_record = absurd (cc empty)
      inside_here [] at empty of_record = from b.is
        where
          begins : (object : TypeNo) × (kind ≡ Some (variable.Record object))
          begins = record_root types kind c to (rw (at, of_record) at leads)

          here : access_of b.from ≡ Some u
          here = rw at at holder

          from : IsAlone kind b.from v ⊎ IsPart types outer.referenced kind b.from v → implicit.end_reaches t u ≡ false
          from (inl a) =
              let own : Some begins.0.0 ≡ Some u = sym (ap access_of (a.2 ∙ begins.1)) ∙ here in
              let one : begins.0.0 ≡ u = cc own in
              let never : is_access types u ≡ false = ap (is_access types) (sym one) ∙ objects path.root begins.0 begins.1 in
              absurd (cc (never, is_holder))
          from (inr a) =
              let own : Some a.t ≡ Some u = sym a.from_is ∙ here in
              formal_aside c t u (is ∙ ap (λ (ds : List ℕ). c ∷ ds) at) begins.0 begins.1 a.o a.place a.is (f.referred a.o a.t a.refers ∙ own) is_holder (rw same at formal)

      by : (raises : Bool) → path_raises path ≡ raises → implicit.end_reaches t u ≡ false
      by true raises =
          let follows : follows_value path.of_record (c ∷ cs) ≡ true = rw is at raises in
          passed_spared types variables implicit path c cs access t u is same none
          (ap access_of (sym (holder_kind b path.of_record c cs to leads follows)) ∙ holder)
      by false raises =
          let stays = stays_there path.of_record c cs (rw is at raises) in
          inside_here cs refl stays.1 stays.0
