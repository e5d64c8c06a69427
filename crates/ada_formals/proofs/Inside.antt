-- A record that is given lies inside of the record to which its path's variable refers.

use Rattle.ada_formals.specs.Inside.{LiesInside, ReferencesLieInside}
use Rattle.ada_formals.proofs.Runs.{last_keeps}
use Rattle.std.proofs.Common.{◌≡◌, ℕ, zero, suc, ◌+◌, ◌<◌, ◌≤◌, ◌==◌, nat_lt, not, Bool, true, false, ◌||◌, List, [], ◌∷◌, length, drop, Option, Some, None, arith, refl, sym, ap, ◌∙◌, subst}
use Rattle.std.proofs.lemmas.Bool.{eqb-true, ltb-false}
use Rattle.std.specs.List.{slice_get}
use Rattle.ada_program.specs.declared.program.ComponentKind.{ComponentKind}
use Rattle.ada_program.specs.declared.program.Program.{Program}
use Rattle.ada_program.specs.declared.program.TypeNo.{TypeNo}
use Rattle.ada_program.specs.declared.program.VariableKind.{VariableKind}
use Rattle.ada_program.specs.declared.program.VariableKind.TheVariants as variable
use Rattle.ada_program.specs.Form.{RecordPathForm}
use Rattle.ada_program.specs.ProgramForm.{TypeForm, ProgramForm, program_form}
use Rattle.ada_program.specs.WellFormed.{record_components, width_in, part_count, parts_named, object_named, object_components, variable_kind, access_of, root_kind, selectors_kind, path_kind, is_alike, begins_with, has_record_at, has_parts_from, has_parts_at, is_record_path}
use Rattle.ada_meaning.specs.declared.state.Id.{Id}
use Rattle.ada_meaning.specs.declared.state.Mode.{Mode}
use Rattle.ada_meaning.specs.declared.state.Mode.TheVariants.{Running, Raising}
use Rattle.ada_meaning.specs.declared.state.Place.{Place}
use Rattle.ada_meaning.specs.declared.state.Value.{Value}
use Rattle.ada_meaning.specs.declared.state.Value.TheVariants.{Part}
use Rattle.ada_meaning.specs.Frame.{Frame}
use Rattle.ada_meaning.specs.Frame as frame
use Rattle.ada_meaning.specs.State.{Activation}
use Rattle.ada_meaning.specs.Step.{procedure_of, places_of, operands_of, places, operands, held}
use Rattle.ada_meaning.specs.Named.{State, named}
use Rattle.ada_meaning.specs.Run.{Event, settled, Step}
use Rattle.ada_meaning.proofs.References.{records_are_referred_to, records_begin_there}
use Rattle.ada_typed.specs.Holding.{Cells, cells_of, HasKind, seen_now}
use Rattle.ada_typed.proofs.Operators.{and_left, and_right}
use Rattle.ada_typed.proofs.Walking.{parts_lie_at}
use Rattle.ada_typed.proofs.Control.{Fits, Goes, TypedIn, running, on_jump, operated, out_of_operation}
use Rattle.ada_typed.proofs.Bodies.{types_seen}
use Rattle.ada_typed.proofs.Freeing.{starts, starts_so}
use Rattle.ada_typed.proofs.Runs.{typed_holds}

-- The components of a record are as many as it has.
begins_long : (xs ks : List ComponentKind) → begins_with xs ks ≡ true → length ks ≤ length xs
begins_long xs [] is = omega arith
begins_long [] (k ∷ ks) is = absurd (cc)
begins_long (x ∷ xs) (k ∷ ks) is = let later = begins_long xs ks (and_right (is_alike x k) (begins_with xs ks) is) in omega (arith, later)

drop_long : (n : ℕ) (xs : List ComponentKind) → 0 < length (drop n xs) → n + length (drop n xs) ≤ length xs
drop_long zero xs some = omega arith
drop_long (suc n) [] some = absurd (omega (arith, some))
drop_long (suc n) (x ∷ xs) some = let later = drop_long n xs some in omega (arith, later)

record_long : (within ks : Option (List ComponentKind)) (first : ℕ) → has_record_at within first ks ≡ true → 0 < width_in ks → first + width_in ks ≤ width_in within
record_long None ks first is some = absurd (cc)
record_long (Some xs) None first is some = absurd (cc)
record_long (Some xs) (Some ks) first is some =
    let long = begins_long (drop first xs) ks is in
    let all = drop_long first xs (omega (arith, some, long)) in
    omega (arith, long, all)

-- The controlled parts are, too.
parts_by : (none less : Bool) (count part within : ℕ) → (count == 0) ≡ none → nat_lt within (part + count) ≡ less → (none || not less) ≡ true → 0 < count
    → part + count ≤ within
parts_by true less count part within none is said some = let no : count ≡ 0 = eqb-true count 0 none in absurd (omega (arith, no, some))
parts_by false true count part within none is said some = absurd (cc)
parts_by false false count part within none is said some = ltb-false within (part + count) is

parts_long : (count part within : ℕ) → has_parts_from count part within ≡ true → 0 < count → part + count ≤ within
parts_long count part within said some = parts_by (count == 0) (nat_lt within (part + count)) count part within refl refl said some

-- In a typed state in which a record is to be found next, its path leads to one.
path_leads :
    (own : ProgramForm) (s : State) (q : RecordPathForm) (k : List (Frame Value)) → TypedIn own s → s.mode ≡ Running → s.control ≡ frame.Refers q ∷ k
    → is_record_path own.types own.variables q ≡ true
path_leads own s q k (running kinds ready fits) runs is =
    let refers = subst (λ (control : List (Frame Value)). Fits own (cells_of s.heap) kinds control) is fits in
    refers.1
path_leads own s q k (on_jump mode jumps goes) runs is =
    let never : Goes own (cells_of s.heap) Running s.control = subst (λ (now : Mode). Goes own (cells_of s.heap) now s.control) (sym jumps.jumps ∙ runs) goes in
    absurd never
path_leads own s q k (operated kinds ready ended) runs is =
    let ends : starts s.control ≡ true = starts_so own (cells_of s.heap) kinds s.control ended in
    let begins : starts s.control ≡ false = ap starts is in
    absurd (cc)
path_leads own s q k (out_of_operation e kinds jumps ended) runs is =
    let never : Raising e ≡ Running = sym jumps.jumps ∙ runs in
    absurd (cc)

module _ (types : List TypeForm) (cells : Cells) (o : Id) (base : Place) where
  -- A variable that refers to a record is a record variable, and its path says so.
  record_root :
      (of_record : Bool) (held_as : Option VariableKind) (first : ℕ) (ks : Option (List ComponentKind))
      → ((kind : VariableKind) → held_as ≡ Some kind → HasKind types cells kind (Part o base))
      → has_record_at (object_components types (access_of (root_kind of_record held_as))) first ks ≡ true
      → (object : TypeNo) × (held_as ≡ Some (variable.Record object)) × (access_of (root_kind of_record held_as) ≡ Some object.0)
  record_root of_record None first ks holds leads = absurd (cc)
  record_root true (Some variable.Integer) first ks holds leads = absurd (cc)
  record_root false (Some variable.Integer) first ks holds leads = absurd (cc)
  record_root true (Some variable.Boolean) first ks holds leads = absurd (cc)
  record_root false (Some variable.Boolean) first ks holds leads = absurd (cc)
  record_root true (Some (variable.Access access)) first ks holds leads = absurd (cc)
  record_root false (Some (variable.Access access)) first ks holds leads = absurd (holds (variable.Access access) refl)
  record_root true (Some (variable.Record object)) first ks holds leads = (object, refl, refl)
  record_root false (Some (variable.Record object)) first ks holds leads = absurd (cc)

-- Where the path leads to a record of its type in an object of this one, that lies inside.
lies_inside :
    (types : List TypeForm) (base : Place) (object : TypeNo) (q : RecordPathForm)
    → has_record_at (object_components types (Some object.0)) q.first (record_components types q.record_type) ≡ true
    → has_parts_at types q.record_type (object_named types (Some object.0)) q.first q.part ≡ true
    → LiesInside types (object_named types (Some object.0)) base q.record_type (record { component = base.component + q.first; part = base.part + q.part })
lies_inside types base object q leads parts =
    let lie = parts_lie_at types q.record_type (object_named types (Some object.0)) q.first q.part parts in
    record {
      first = q.first;
      part = q.part;
      component_at = refl;
      part_at = refl;
      components = record_long (object_components types (Some object.0)) (record_components types q.record_type) q.first leads;
      parts = parts_long (part_count types q.record_type) q.part (parts_named types (object_named types (Some object.0))) lie.0;
      walk = lie.1;
    }

module _ (own : ProgramForm) (s : State) (typed : TypedIn own s) (q : RecordPathForm) (outer : List (Frame Value)) (o : Id) (base : Place)
    (runs : s.mode ≡ Running) (is : s.control ≡ frame.Refers q ∷ outer) (alone : q.object.selectors ≡ [])
    (refers : slice_get (places s) q.object.root ≡ Some (Part o base)) where
  -- What the path's variable is.
  abbrev Found : Type 0
  Found =
      (object : TypeNo) × (variable_kind own.variables q.object.root ≡ Some (variable.Record object))
      × LiesInside own.types (object_named own.types (Some object.0)) base q.record_type (record { component = base.component + q.first; part = base.part + q.part })

  holds_reference : (kind : VariableKind) → variable_kind own.variables q.object.root ≡ Some kind → HasKind own.types (cells_of s.heap) kind (Part o base)
  holds_reference kind has =
      let holds = typed_holds own s q.object.root kind typed has in
      let same : held named s q.object.root ≡ Part o base = some_same (sym holds.0 ∙ refers) in
      subst (λ (v : Value). HasKind own.types (cells_of s.heap) kind v) same holds.1
    where
      some_same : {v u : Value} → Some v ≡ Some u → v ≡ u
      some_same equal = cc

  pub found_inside : Found
  found_inside =
      let path = is_record_path own.types own.variables q in
      let leads_to = access_of (path_kind own.types own.variables q.object) in
      let whole = path_leads own s q outer typed runs is in
      let lies = has_record_at (object_components own.types leads_to) q.first (record_components own.types q.record_type) in
      let counted = has_parts_at own.types q.record_type (object_named own.types leads_to) q.first q.part in
      let root = root_kind q.object.of_record (variable_kind own.variables q.object.root) in
      let begins : leads_to ≡ access_of root = ap (λ (cs : List ℕ). access_of (selectors_kind own.types root cs)) alone in
      let lies_there = and_left lies counted whole in
      let at_root = subst (λ (t : Option ℕ). has_record_at (object_components own.types t) q.first (record_components own.types q.record_type) ≡ true) begins lies_there in
      let kind =
      record_root own.types (cells_of s.heap) o base q.object.of_record (variable_kind own.variables q.object.root) q.first (record_components own.types q.record_type)
      holds_reference at_root in
      let is_object : leads_to ≡ Some kind.0.0 = begins ∙ kind.2 in (
        kind.0,
        kind.1,
        lies_inside own.types base kind.0 q
            (subst (λ (t : Option ℕ). has_record_at (object_components own.types t) q.first (record_components own.types q.record_type) ≡ true) is_object lies_there)
            (subst (λ (t : Option ℕ). has_parts_at own.types q.record_type (object_named own.types t) q.first q.part ≡ true) is_object (and_right lies counted whole)),
      )

-- The two steps.
two_steps :
    (program : Program) (s : State) (q : RecordPathForm) (outer : List (Frame Value)) (o : Id) (base : Place) (activations : List (Activation Value))
    → s.activations ≡ activations → s.mode ≡ Running → s.control ≡ frame.Refers q ∷ outer → q.object.selectors ≡ []
    → slice_get (places_of activations) q.object.root ≡ Some (Part o base)
    → (mid after : State) (one two : Event) → Step program s settled one mid → Step program mid settled two after
    → (after.control ≡ outer) × (operands after ≡ Part o (record { component = base.component + q.first; part = base.part + q.part }) ∷ operands_of activations)
two_steps program s q outer o base [] acts runs is alone refers mid after one two first second = absurd (cc)
two_steps program s q outer o base (a ∷ suspended) acts runs is alone refers mid after one two first second =
    let place : Place = record { component = base.component + q.first; part = base.part + q.part } in
    let came = (records_begin_there program q base o outer s mid a.procedure a.places a.operands suspended one runs alone acts refers first).0 is in
    let last =
    records_are_referred_to program place q.record_type o outer mid after a.procedure a.places a.operands suspended two
    (ap (λ (t : State). t.mode) came ∙ runs) (ap (λ (t : State). t.control) came) (ap (λ (t : State). t.activations) came) second in
    (ap (λ (t : State). t.control) last, ap (λ (t : State). operands t) last)

pub references_lie_inside : ReferencesLieInside
references_lie_inside program well input events s run q outer o base runs is alone refers mid after one two first second =
    let p = program_form program in
    let keeps = last_keeps program well input events s run in
    let found = found_inside (seen_now p s) s keeps.typed.inside q outer o base runs is alone refers in
    let place : Place = record { component = base.component + q.first; part = base.part + q.part } in
    let came = two_steps program s q outer o base s.activations refl runs is alone refers mid after one two first second in (
      found.0,
      place,
      found.1,
      came.0,
      came.1,
      subst (λ (types : List TypeForm). LiesInside types (object_named types (Some found.0.0)) base q.record_type place) (types_seen p (procedure_of s.activations)) found.2,
    )
