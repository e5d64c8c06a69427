-- Paths of a body that shuns some access types: what they look at, and where they lead.

use Rattle.std.proofs.Common.{◌≡◌, ℕ, Bool, true, false, not, List, [], ◌∷◌, length, Option, Some, None, refl, sym, ap, ◌∙◌, subst, arith}
use Rattle.std.specs.List.{slice_get, slice_index_or}
use Rattle.std.proofs.lemmas.Option.{slice_get_past}
use Rattle.ada_program.specs.declared.program.ComponentKind.{ComponentKind}
use Rattle.ada_program.specs.declared.program.Exception.TheVariants.{ConstraintError}
use Rattle.ada_program.specs.declared.program.TypeNo.{TypeNo}
use Rattle.ada_program.specs.declared.program.VariableKind.{VariableKind}
use Rattle.ada_program.specs.declared.program.VariableKind.TheVariants as variable
use Rattle.ada_program.specs.Form.{RecordPathForm}
use Rattle.ada_program.specs.ProgramForm.{TypeForm, VariableForm}
use Rattle.ada_program.specs.WellFormed.{held_kind, is_access, kind_among, kind_behind, kind_fits, named_in, reached_components, selected_kind, selectors_kind, value_access, variable_kind}
use Rattle.ada_meaning.specs.declared.state.Id.{Id}
use Rattle.ada_meaning.specs.declared.state.Mode.TheVariants.{Raising}
use Rattle.ada_meaning.specs.declared.state.Place.{Place}
use Rattle.ada_meaning.specs.declared.state.Stage.{Stage}
use Rattle.ada_meaning.specs.declared.state.Stage.TheVariants.{Building, Existing, Gone}
use Rattle.ada_meaning.specs.declared.state.Value.{Value}
use Rattle.ada_meaning.specs.declared.state.Value.TheVariants.{Null, Names, Scalar, Part}
use Rattle.ada_meaning.specs.Frame.{Frame}
use Rattle.ada_meaning.specs.Frame as frame
use Rattle.ada_meaning.specs.Heap.{Cell, Found, on_null, on_gone, on_other, finds}
use Rattle.ada_meaning.specs.Step.{at, places, held, reading, component_next, follow_next, path_next, named_next, holder_next, record_holder_next, place_in, selected, before_last, last_of}
use Rattle.ada_meaning.specs.Named.{Object, State, named, object_at, created, look, seen, existing, whole, inside}
use Rattle.ada_untouched.specs.Untouched.{IsInSight, LeadsOn, LeadsToHolder, hides}
use Rattle.ada_typed.specs.Holding.{HasKind, cells_of}
use Rattle.ada_typed.proofs.Evaluations.{cell_at, own_access}
use Rattle.ada_typed.proofs.Records.{begins}
use Rattle.ada_typed.proofs.Values.{AreFilled, filled_at}
use Rattle.ada_reaching.specs.Reaching.{IsElsewhere, AreElsewhere, Seeks, is_leaving}
use Rattle.ada_reaching.specs.Forms.{may_follow, selectors_shun}
use Rattle.ada_reaching.specs.Law.{GhostsStay, AllGoOn, none_hidden}
use Rattle.ada_reaching.proofs.Elsewhere.{AccessedAreNamed, elsewhere_at, cell_elsewhere, held_elsewhere, whole_elsewhere}
use Rattle.ada_reaching.proofs.Going.{World, variables_in, Runs, Left, On, Goes, anew_quiet, anew_stands, shunned_there, declared_there, object_there, anew_seeks, sought, gives, jumps_out}
use Rattle.ada_reaching.proofs.Selections.{IsRooted, begun_somewhere, reached_fit, shun_first, shun_behind, shun_before, shun_holder, last_kind, LeadsShunning, seeks_weaker, followed, valued, held_in, named_kind, named_access}

-- What objects and variables hold is of its kind.
pub record IsSound (types : List TypeForm) (variables : List VariableForm) (heap : List Object) (values : List Value) : Type 0 where
  pub filled : AreFilled types (cells_of heap) (cells_of heap)
  pub holds : (x : ℕ) (kind : VariableKind) → variable_kind variables x ≡ Some kind → HasKind types (cells_of heap) kind (slice_index_or values x Null)
  pub records : (x : ℕ) (object : TypeNo) → variable_kind variables x ≡ Some (variable.Record object) → is_access types object.0 ≡ false

-- The object is there that is found, and its cell is what is found.
pub record IsThere (heap : List Object) (v : Value) (cell : Cell Value) : Type 0 where
  pub name : Id
  pub object : Object
  pub named_so : v ≡ Names name
  pub there : object_at heap name ≡ Some object
  pub own : object.cell ≡ cell

-- What is found is one cell.
same_cell : {c d : Cell Value} → finds c ≡ finds d → c ≡ d
same_cell e = cc

-- What is found is the cell of the object.
existing_cell : (x : Object) (stage : Stage) (cell : Cell Value) → existing x stage ≡ finds cell → x.cell ≡ cell
existing_cell x Building cell is = same_cell is
existing_cell x Existing cell is = same_cell is
existing_cell x Gone cell is = absurd (cc)

-- The object is there that is found, if one is.
seen_there :
    (heap : List Object) (o : Id) (found : Option Object) (cell : Cell Value) → object_at heap o ≡ found → seen found ≡ finds cell
    → IsThere heap (Names o) cell
seen_there heap o None cell at is = absurd (cc)
seen_there heap o (Some x) cell at is = record { name = o; object = x; named_so = refl; there = at; own = existing_cell x x.stage cell is }

-- The object is there that a value names, if one is found.
pub found_there : (heap : List Object) (v : Value) (cell : Cell Value) → look heap v ≡ finds cell → IsThere heap v cell
found_there heap Null cell is = absurd (cc)
found_there heap (Names o) cell is = seen_there heap o (object_at heap o) cell refl is
found_there heap (Scalar v) cell is = absurd (cc)
found_there heap (Part o place) cell is = absurd (cc)

-- The component with which a path begins that leads somewhere: in the object which its variable names, or in which the record lies for which that stands.
pub record IsBegun (types : List TypeForm) (variables : List VariableForm) (heap : List Object) (v : Value) (x c : ℕ) (cs : List ℕ) (to : VariableKind) : Type 0 where
  pub kind : VariableKind
  pub selects : selected_kind types (variable_kind variables x) c ≡ Some kind
  pub leads : selectors_kind types (Some kind) cs ≡ Some to
  pub lies :
      (o : Id) (y : Object) → whole v ≡ Names o → object_at heap o ≡ Some y
      → kind_among (reached_components types y.cell.access) (inside v c) ≡ Some kind

module _ (types : List TypeForm) (variables : List VariableForm) (heap : List Object) (values : List Value) (sound : IsSound types variables heap values) where
  -- A path that leads somewhere begins with such a component.
  pub begun :
      (x c : ℕ) (cs : List ℕ) (to : VariableKind) → IsRooted types variables x (c ∷ cs) to
      → IsBegun types variables heap (slice_index_or values x Null) x c cs to
  begun x c cs to root =
      let v = slice_index_or values x Null in
      let start = begins types (cells_of heap) root.from v (sound.holds x root.from root.held) in
      let mid = begun_somewhere types (selected_kind types (Some root.from) c) cs to root.leads in
      record {
        kind = mid.0;
        selects = ap (λ (kind : Option VariableKind). selected_kind types kind c) root.held ∙ mid.1;
        leads = ap (λ (kind : Option VariableKind). selectors_kind types kind cs) (sym mid.1) ∙ root.leads;
        lies = λ o y e at.
            let has : HasKind types (cells_of heap) start.root (Names o) =
            subst (λ (u : Value). HasKind types (cells_of heap) start.root u) e start.has in
            ap (λ (access : Option ℕ). kind_behind types access (inside v c)) (sym (named_access types heap sound.filled start.root o y has at))
            ∙ start.selects c mid.0 mid.1;
      }

-- No component is hidden.
pub nothing_hidden : (v : Value) (c : ℕ) → hides none_hidden v c ≡ false
nothing_hidden Null c = refl
nothing_hidden (Names o) c = refl
nothing_hidden (Scalar v) c = refl
nothing_hidden (Part o place) c = refl

-- What is shunned may not be followed.
never_both : (b : Bool) → b ≡ true → not b ≡ true → ⊥
never_both true is isnt = absurd (cc)
never_both false is isnt = absurd (cc)

-- One object is found.
pub same_object : {x y : Object} → Some x ≡ Some y → x ≡ y
same_object e = cc

module _ (w : World) where
  -- What objects and variables of a state hold is of its kind.
  abbrev pub Sound : State → Type 0
  Sound s = IsSound w.p.types (variables_in w) s.heap (places s)

  -- So it is with objects.
  abbrev pub Fine : State → Type 0
  Fine s = AreFilled w.p.types (cells_of s.heap) (cells_of s.heap)

  -- What names the object of what a variable holds refers to no ghost.
  held_whole : (s : State) (x : ℕ) → Runs w s → IsElsewhere w.ghosts w.unnamed (whole (held named s x))
  held_whole s x r = whole_elsewhere w.ghosts w.unnamed w.are (held named s x) (elsewhere_at w.ghosts w.unnamed (places s) x r.places)

  module _ (heap : List Object) (same : GhostsStay w.ghosts w.before heap) where
    -- An object is no ghost, if it is none where it is a ghost.
    pub by_ghost : (o : Id) (b : Bool) → w.ghosts o ≡ b → (w.ghosts o ≡ true → ⊥) → w.ghosts o ≡ false
    by_ghost o true is never = absurd (never is)
    by_ghost o false is never = is

    -- An object is not unnamed, if it is none where it is unnamed.
    by_unnamed : (o : Id) (b : Bool) → w.unnamed o ≡ b → (w.unnamed o ≡ true → ⊥) → w.unnamed o ≡ false
    by_unnamed o true is never = absurd (never is)
    by_unnamed o false is never = is

    -- No object of an access type is unnamed.
    pub accessed_named : AccessedAreNamed w.ghosts w.unnamed w.p.types (cells_of heap)
    accessed_named o access has of_access =
        by_unnamed o (w.unnamed o) refl
        (λ is.
        let ghost = declared_there w heap same o is in
        let own : ghost.object.cell.access ≡ access = own_access heap o access ghost.object has ghost.there in
        let isnt : is_access w.p.types access ≡ false = ap (is_access w.p.types) (sym own) ∙ ghost.declared in absurd (cc))

    -- A new object is not unnamed: it has the name of none that is there.
    pub new_elsewhere : (words : ℕ) → IsElsewhere w.ghosts w.unnamed (created heap words)
    new_elsewhere words =
        let o : Id = record { 0 = length heap } in
        by_unnamed o (w.unnamed o) refl
        (λ is.
        let ghost = declared_there w heap same o is in
        let none : object_at heap o ≡ None = slice_get_past heap (length heap) (omega (arith)) in
        let there = ghost.there in absurd (cc (none, there)))

    -- Nor is it a ghost.
    pub new_in_sight : (words : ℕ) → IsInSight w.ghosts (created heap words)
    new_in_sight words =
        let o : Id = record { 0 = length heap } in
        by_ghost o (w.ghosts o) refl
        (λ is.
        let ghost = object_there w heap same o is in
        let none : object_at heap o ≡ None = slice_get_past heap (length heap) (omega (arith)) in
        let there = ghost.1 in absurd (cc (none, there)))

    -- What a component of an object holds refers to no ghost.
    pub component_elsewhere :
        (kind : ComponentKind) (v : Value) → kind_fits w.p.types kind ≡ true → HasKind w.p.types (cells_of heap) (held_kind kind) v
        → IsElsewhere w.ghosts w.unnamed v
    component_elsewhere kind v fits has = held_elsewhere w.ghosts w.unnamed w.p.types (cells_of heap) kind v accessed_named fits has

    -- So it is with all that an object holds.
    pub values_elsewhere :
        AreFilled w.p.types (cells_of heap) (cells_of heap) → (o : Id) (x : Object) → object_at heap o ≡ Some x
        → AreElsewhere w.ghosts w.unnamed x.cell.values
    values_elsewhere fine o x at =
        let own = filled_at w.p.types (cells_of heap) (cells_of heap) o.0 x.cell fine (cell_at heap o.0 x at) in
        cell_elsewhere w.ghosts w.unnamed w.p.types (cells_of heap) own.0 x.cell.values accessed_named
        (reached_fit w.p.types (named_in (slice_get w.p.types x.cell.access)) own.0 w.types_fit own.1) own.2

    -- An object is no ghost whose type is not shunned, and that a value names.
    pub no_ghost : (o : Id) (x : Object) → w.unnamed o ≡ false → object_at heap o ≡ Some x → not (w.shuns x.cell.access) ≡ true → w.ghosts o ≡ false
    no_ghost o x other at may =
        by_ghost o (w.ghosts o) refl
        (λ is.
        let ghost = shunned_there w heap same o is other in
        let one : ghost.object ≡ x = same_object (sym ghost.there ∙ at) in
        never_both (w.shuns x.cell.access) (ap (λ (y : Object). w.shuns y.cell.access) (sym one) ∙ ghost.shunned) may)

    -- So an object of such a type may be followed.
    pub may_seek :
        (o : Id) (x : Object) → w.unnamed o ≡ false → object_at heap o ≡ Some x → not (w.shuns x.cell.access) ≡ true → not (w.ghosts o) ≡ true
    may_seek o x other at may = ap not (no_ghost o x other at may)

    -- The object of a value may be looked for that is no ghost, if there is one.
    pub in_sight : (v : Value) → ((o : Id) (x : Object) → v ≡ Names o → object_at heap o ≡ Some x → not (w.ghosts o) ≡ true) → IsInSight w.ghosts v
    in_sight Null each = refl
    in_sight (Names o) each =
        by_ghost o (w.ghosts o) refl
        (λ is. let ghost = object_there w heap same o is in never_both (w.ghosts o) is (each o ghost.0 refl ghost.1))
    in_sight (Scalar v) each = refl
    in_sight (Part o place) each = refl

    -- What a variable of a kind holds that may be followed leads to no ghost: a record object that it names is none.
    root_sight :
        (kind : VariableKind) (v : Value) → HasKind w.p.types (cells_of heap) kind v → IsElsewhere w.ghosts w.unnamed v → may_follow w.shuns (Some kind) ≡ true
        → ((object : TypeNo) → kind ≡ variable.Record object → is_access w.p.types object.0 ≡ false) → IsInSight w.ghosts (whole v)
    root_sight kind Null has other may records = refl
    root_sight variable.Integer (Names o) has other may records = absurd has
    root_sight variable.Boolean (Names o) has other may records = absurd has
    root_sight (variable.Access access) (Names o) has other may records =
        by_ghost o (w.ghosts o) refl
        (λ is.
        let ghost = shunned_there w heap same o is other in
        let own : ghost.object.cell.access ≡ access.0 = own_access heap o access.0 ghost.object has ghost.there in
        never_both (w.shuns access.0) (ap w.shuns (sym own) ∙ ghost.shunned) may)
    root_sight (variable.Record object) (Names o) has other may records =
        by_ghost o (w.ghosts o) refl
        (λ is.
        let ghost = shunned_there w heap same o is other in
        let own : ghost.object.cell.access ≡ object.0 = own_access heap o object.0 ghost.object has ghost.there in
        let isnt : is_access w.p.types object.0 ≡ false = records object refl in
        let accessed : is_access w.p.types object.0 ≡ true = ap (is_access w.p.types) (sym own) ∙ ghost.accessed in absurd (cc))
    root_sight kind (Scalar v) has other may records = refl
    root_sight kind (Part o place) has other may records = other

  -- So does what the variable of a state holds.
  pub held_sight :
      (s : State) (x : ℕ) (kind : VariableKind) → Sound s → Runs w s → variable_kind (variables_in w) x ≡ Some kind → may_follow w.shuns (Some kind) ≡ true
      → IsInSight w.ghosts (whole (held named s x))
  held_sight s x kind sound r is may =
      root_sight s.heap r.same kind (held named s x) (sound.holds x kind is) (elsewhere_at w.ghosts w.unnamed (places s) x r.places) may
      (λ object same. sound.records x object (is ∙ ap Some same))

  -- So it is with a variable with which selectors begin that follow nothing that is shunned.
  pub begun_sight :
      (s : State) (x c : ℕ) (cs : List ℕ) (to : VariableKind) → Sound s → Runs w s → IsRooted w.p.types (variables_in w) x (c ∷ cs) to
      → selectors_shun w.p.types w.shuns (variable_kind (variables_in w) x) (c ∷ cs) ≡ true → IsInSight w.ghosts (whole (held named s x))
  begun_sight s x c cs to sound r root shun =
      held_sight s x root.from sound r root.held
      (ap (may_follow w.shuns) (sym root.held) ∙ shun_first w.p.types w.shuns (variable_kind (variables_in w) x) c cs shun)

  -- A path leads on.
  pub path_open :
      (s : State) (x : ℕ) (cs : List ℕ) (to : VariableKind) → Sound s → Runs w s → IsRooted w.p.types (variables_in w) x cs to
      → selectors_shun w.p.types w.shuns (variable_kind (variables_in w) x) cs ≡ true → LeadsOn none_hidden w.ghosts cs (held named s x)
  path_open s x [] to sound r root shun = tt
  path_open s x (c ∷ cs) to sound r root shun =
      (begun_sight s x c cs to sound r root shun, nothing_hidden (whole (held named s x)) (inside (held named s x) c))

  -- The way to the object of the last component of a path leads on.
  pub holder_open :
      (s : State) (x : ℕ) (cs : List ℕ) (to : VariableKind) → Sound s → Runs w s → IsRooted w.p.types (variables_in w) x cs to
      → selectors_shun w.p.types w.shuns (variable_kind (variables_in w) x) cs ≡ true → LeadsToHolder none_hidden w.ghosts cs (held named s x)
  holder_open s x [] to sound r root shun = tt
  holder_open s x (c ∷ []) to sound r root shun = tt
  holder_open s x (c ∷ d ∷ cs) to sound r root shun =
      (begun_sight s x c (d ∷ cs) to sound r root shun, nothing_hidden (whole (held named s x)) (inside (held named s x) c))

  -- What is selected first on a path follows nothing that is shunned behind it.
  begun_shun :
      (s : State) (x c : ℕ) (cs : List ℕ) (to : VariableKind) (start : IsBegun w.p.types (variables_in w) s.heap (held named s x) x c cs to)
      → selectors_shun w.p.types w.shuns (variable_kind (variables_in w) x) (c ∷ cs) ≡ true → selectors_shun w.p.types w.shuns (Some start.kind) cs ≡ true
  begun_shun s x c cs to start shun =
      ap (λ (kind : Option VariableKind). selectors_shun w.p.types w.shuns kind cs) (sym start.selects)
      ∙ shun_behind w.p.types w.shuns (variable_kind (variables_in w) x) c cs shun

  -- What a component of an object holds leads to nothing that is shunned.
  abbrev pub StepShuns : State → Value → (component : ℕ) → (selectors : List ℕ) → Type 0
  StepShuns s v c cs =
      (o : Id) (x : Object) → v ≡ Names o → object_at s.heap o ≡ Some x
      → LeadsShunning w.p.types w.shuns w.apart (kind_among (reached_components w.p.types x.cell.access) c) cs s.control

  -- The bodies go on once a path has found a value.
  reading_goes :
      (cs : List ℕ) (v : Value) (kind : ComponentKind) (s : State) → Fine s → kind_fits w.p.types kind ≡ true → HasKind w.p.types (cells_of s.heap) (held_kind kind) v
      → LeadsShunning w.p.types w.shuns w.apart (Some (held_kind kind)) cs s.control → Runs w s → Left w s.control → is_leaving s.control ≡ false
      → On w (reading named cs v s)
  reading_goes [] v kind s fine fits has leads r h stands =
      let other = component_elsewhere s.heap r.same kind v fits has in
      sought w v s other r h stands
      (λ o x e at.
      let named_so = named_kind w.p.types s.heap fine kind o x (subst (λ (u : Value). HasKind w.p.types (cells_of s.heap) (held_kind kind) u) e has) at in
      seeks_weaker w.p.types w.shuns w.apart (not (w.shuns x.cell.access)) (not (w.ghosts o)) x.cell.access s.control
      (may_seek s.heap r.same o x (subst (λ (u : Value). IsElsewhere w.ghosts w.unnamed u) e other) at)
      (leads.1 x.cell.access (ap (λ (from : VariableKind). value_access (Some from)) named_so)))
  reading_goes (c ∷ cs) v kind s fine fits has leads r h stands =
      let other = component_elsewhere s.heap r.same kind v fits has in
      sought w v (at (frame.Follows (c ∷ cs) ∷ s.control) s) other r (tt, stands, h) refl
      (λ o x e at.
      let named_so = named_kind w.p.types s.heap fine kind o x (subst (λ (u : Value). HasKind w.p.types (cells_of s.heap) (held_kind kind) u) e has) at in
      let own = subst (λ (from : VariableKind). LeadsShunning w.p.types w.shuns w.apart (Some from) (c ∷ cs) s.control) named_so leads in
      let from : VariableKind = variable.Access (record { 0 = x.cell.access }) in (
        may_seek s.heap r.same o x (subst (λ (u : Value). IsElsewhere w.ghosts w.unnamed u) e other) at (shun_first w.p.types w.shuns (Some from) c cs own.0),
        shun_behind w.p.types w.shuns (Some from) c cs own.0,
        own.1,
      ))

  -- The bodies go on as a component is read.
  component_goes :
      (v : Value) (c : ℕ) (cs : List ℕ) (o : Id) (x : Object) (found : Option Value) (s : State) → Fine s → object_at s.heap o ≡ Some x
      → slice_get x.cell.values c ≡ found → LeadsShunning w.p.types w.shuns w.apart (kind_among (reached_components w.p.types x.cell.access) c) cs s.control
      → Runs w s → Left w s.control → is_leaving s.control ≡ false → AllGoOn (On w) (component_next named v cs found s)
  component_goes v c cs o x None s fine there is leads r h stands = tt
  component_goes v c cs o x (Some u) s fine there is leads r h stands =
      let own = held_in w.p.types s.heap fine o x c u there is in
      reading_goes cs u own.0 s fine (own.3 w.types_fit) own.2
      (subst (λ (kind : Option VariableKind). LeadsShunning w.p.types w.shuns w.apart kind cs s.control) own.1 leads) r h stands

  -- So it is, by what is found of the object.
  follow_goes :
      (v : Value) (c : ℕ) (cs : List ℕ) (found : Found (Cell Value)) (s : State) → Fine s → look s.heap v ≡ found → StepShuns s v c cs → Runs w s
      → Left w s.control → is_leaving s.control ≡ false → AllGoOn (On w) (follow_next named v c cs found s)
  follow_goes v c cs on_null s fine is leads r h stands = jumps_out w (Raising ConstraintError) s r h stands
  follow_goes v c cs on_gone s fine is leads r h stands = tt
  follow_goes v c cs on_other s fine is leads r h stands = tt
  follow_goes v c cs (finds cell) s fine is leads r h stands =
      let f = found_there s.heap v cell is in
      component_goes v c cs f.name f.object (slice_get cell.values c) s fine f.there (ap (λ (own : Cell Value). slice_get own.values c) f.own)
      (leads f.name f.object f.named_so f.there) r h stands

  -- The bodies go on as a component is read of the object that a value names.
  pub step_goes :
      (v : Value) (c : ℕ) (cs : List ℕ) (s : State) → Fine s → StepShuns s v c cs → Runs w s → Left w s.control → is_leaving s.control ≡ false
      → AllGoOn (On w) (follow_next named v c cs (look s.heap v) s)
  step_goes v c cs s fine leads r h stands = follow_goes v c cs (look s.heap v) s fine refl leads r h stands

  -- The bodies go on as a path is followed from a variable.
  pub named_goes :
      (cs : List ℕ) (x : ℕ) (to : VariableKind) (s : State) → Sound s → IsRooted w.p.types (variables_in w) x cs to
      → selectors_shun w.p.types w.shuns (variable_kind (variables_in w) x) cs ≡ true → Goes w s (named_next named cs x s)
  named_goes [] x to s sound root shun r h anew = gives w (whole (held named s x)) s (held_whole s x r) r h anew
  named_goes (c ∷ cs) x to s sound root shun r h anew =
      let v = held named s x in
      let start = begun w.p.types (variables_in w) s.heap (places s) sound x c cs to root in
      step_goes (whole v) (inside v c) cs s sound.filled
      (λ o y e there.
      subst (λ (kind : Option VariableKind). LeadsShunning w.p.types w.shuns w.apart kind cs s.control) (sym (start.lies o y e there))
      (begun_shun s x c cs to start shun, λ u is. anew_seeks w (not (w.shuns u)) s.control u (anew_quiet s.control anew))) r h (anew_stands s.control anew)

  -- The bodies go on as the object is found in which the last component of a path lies.
  pub holder_goes :
      (c : ℕ) (cs : List ℕ) (x : ℕ) (to : VariableKind) (frame_of : ℕ → Frame Value) (s : State) → Sound s → IsRooted w.p.types (variables_in w) x (c ∷ cs) to
      → selectors_shun w.p.types w.shuns (variable_kind (variables_in w) x) (c ∷ cs) ≡ true → Runs w s → ((n : ℕ) → Left w (frame_of n ∷ s.control))
      → ((n : ℕ) → is_leaving (frame_of n ∷ s.control) ≡ false)
      → ((may : Bool) (u n : ℕ) → may ≡ true → kind_among (reached_components w.p.types u) n ≡ Some to
      → Seeks w.p.types w.shuns w.apart may u (frame_of n ∷ s.control))
      → AllGoOn (On w) (holder_next named c cs x frame_of s)
  holder_goes c [] x to frame_of s sound root shun r each stands seeks =
      let v = held named s x in
      let start = begun w.p.types (variables_in w) s.heap (places s) sound x c [] to root in
      let sight = begun_sight s x c [] to sound r root shun in
      sought w (whole v) (at (frame_of (inside v c) ∷ s.control) s) (held_whole s x r) r (each (inside v c)) (stands (inside v c))
      (λ o y e there.
      seeks (not (w.ghosts o)) y.cell.access (inside v c) (ap not (subst (λ (u : Value). IsInSight w.ghosts u) e sight)) (start.lies o y e there ∙ start.leads))
  holder_goes c (d ∷ cs) x to frame_of s sound root shun r each stands seeks =
      let v = held named s x in
      let start = begun w.p.types (variables_in w) s.heap (places s) sound x c (d ∷ cs) to root in
      let own = begun_shun s x c (d ∷ cs) to start shun in
      let last = last_of d cs in
      step_goes (whole v) (inside v c) (before_last d cs) (at (frame_of last ∷ s.control) s) sound.filled
      (λ o y e there.
      subst (λ (kind : Option VariableKind). LeadsShunning w.p.types w.shuns w.apart kind (before_last d cs) (frame_of last ∷ s.control))
      (sym (start.lies o y e there)) (
        shun_before w.p.types w.shuns (Some start.kind) d cs own,
        λ u is.
            let kind = selectors_kind w.p.types (Some start.kind) (before_last d cs) in
            seeks (not (w.shuns u)) u last (followed w.shuns kind u is (shun_holder w.p.types w.shuns (Some start.kind) d cs own))
            (ap (λ (access : Option ℕ). kind_behind w.p.types access last) (sym (valued kind u is))
            ∙ last_kind w.p.types w.shuns (Some start.kind) d cs ∙ start.leads),
      )) r (each last) (stands last)

  -- The bodies go on as the object is found in which a record lies.
  pub record_goes :
      (q : RecordPathForm) (to : VariableKind) (frame_of : Place → Frame Value) (s : State) → Sound s
      → IsRooted w.p.types (variables_in w) q.object.root q.object.selectors to
      → selectors_shun w.p.types w.shuns (variable_kind (variables_in w) q.object.root) q.object.selectors ≡ true → may_follow w.shuns (Some to) ≡ true → Runs w s
      → ((place : Place) → Left w (frame_of place ∷ s.control)) → ((place : Place) → is_leaving (frame_of place ∷ s.control) ≡ false)
      → ((may : Bool) (u : ℕ) (place : Place) → may ≡ true → Seeks w.p.types w.shuns w.apart may u (frame_of place ∷ s.control))
      → AllGoOn (On w) (record_holder_next named q frame_of s)
  record_goes q to frame_of s sound root shun may r each stands seeks = by_selectors q.object.selectors (place_in named v q.object.selectors q) root shun
    where
      v : Value
      v = held named s q.object.root

      by_selectors :
          (cs : List ℕ) (place : Place) → IsRooted w.p.types (variables_in w) q.object.root cs to
          → selectors_shun w.p.types w.shuns (variable_kind (variables_in w) q.object.root) cs ≡ true
          → AllGoOn (On w) (path_next named (selected named v cs) (whole v) (at (frame_of place ∷ s.control) s))
      by_selectors [] place begins shun =
          let kind : Some begins.from ≡ Some to = begins.leads in
          let sight = held_sight s q.object.root begins.from sound r begins.held (ap (may_follow w.shuns) kind ∙ may) in
          sought w (whole v) (at (frame_of place ∷ s.control) s) (held_whole s q.object.root r) r (each place) (stands place)
          (λ o y e there. seeks (not (w.ghosts o)) y.cell.access place (ap not (subst (λ (u : Value). IsInSight w.ghosts u) e sight)))
      by_selectors (c ∷ cs) place begins shun =
          let start = begun w.p.types (variables_in w) s.heap (places s) sound q.object.root c cs to begins in
          step_goes (whole v) (inside v c) cs (at (frame_of place ∷ s.control) s) sound.filled
          (λ o y e there.
          subst (λ (kind : Option VariableKind). LeadsShunning w.p.types w.shuns w.apart kind cs (frame_of place ∷ s.control)) (sym (start.lies o y e there)) (
            begun_shun s q.object.root c cs to start shun,
            λ u is. seeks (not (w.shuns u)) u place
                (followed w.shuns (selectors_kind w.p.types (Some start.kind) cs) u is (ap (may_follow w.shuns) start.leads ∙ may)),
          )) r (each place) (stands place)
