-- The object whose components a body tracks (7.6) is watched: it exists, its components are there, and the formal parameter refers to the record of which they are
-- components.

use Rattle.std.proofs.Common.{◌≡◌, ℕ, zero, suc, ◌+◌, ◌<◌, false, List, [], ◌∷◌, length, Option, Some, arith, refl, sym, ap, ◌∙◌, subst}
use Rattle.std.specs.List.{slice_get}
use Rattle.ada_program.specs.declared.program.ComponentKind.{ComponentKind}
use Rattle.ada_program.specs.declared.program.VariableKind.{VariableKind}
use Rattle.ada_program.specs.declared.program.VariableKind.TheVariants as variable
use Rattle.ada_program.specs.ProgramForm.{TypeForm, VariableForm, ProgramForm}
use Rattle.ada_program.specs.WellFormed.{reached_components, variable_kind}
use Rattle.ada_meaning.specs.declared.state.Place.{Place}
use Rattle.ada_meaning.specs.declared.state.Stage.TheVariants.{Existing}
use Rattle.ada_meaning.specs.declared.state.Value.{Value}
use Rattle.ada_meaning.specs.declared.state.Value.TheVariants.{Null, Names, Scalar, Part}
use Rattle.ada_meaning.specs.Step.{places, blanks, given_places}
use Rattle.ada_meaning.specs.Named.{Object, State, named, object_at}
use Rattle.ada_tracked.specs.Frames.{View, shifted, watched, values_at, values_of}
use Rattle.ada_tracked.specs.Seen.{AreBelow, IsNoneOf, AreApart, refers, AreNoReferences, IsFormal, FormalIsFirst, IsWatched}
use Rattle.ada_tracked.proofs.Lists.{shifted_same}
use Rattle.ada_judged.specs.Fitting.{TracksComponents}
use Rattle.ada_typed.specs.Holding.{Cells, IsAccess, HaveKinds, cells_of}
use Rattle.ada_typed.proofs.Bodies.{TablesFit}
use Rattle.ada_typed.proofs.Control as typed
use Rattle.ada_typed.proofs.Evaluations.{cell_at}
use Rattle.ada_typed.proofs.Values.{AreHeld, filled_at, component_held}
use Rattle.ada_sound.proofs.Calm.{filled_in}
use Rattle.ada_sound.proofs.JudgedTyped.{AreAccess, watched_of_access, read_there, formal_lies, active_held}

-- Components that are there are below the number of components.
below_there : (vs : List Value) (i : ℕ) (v : Value) → slice_get vs i ≡ Some v → i < length vs
below_there [] i v is = absurd (cc is)
below_there (u ∷ vs) zero v is = omega arith
below_there (u ∷ vs) (suc i) v is = let less = below_there vs i v is in omega (arith, less)

module _ (types : List TypeForm) (cells : Cells) (ks : List ComponentKind) (vs : List Value) (have : HaveKinds types cells ks vs) where
  are_below : (bs : List ℕ) → AreAccess ks bs → AreBelow (length vs) bs
  are_below [] each = tt
  are_below (b ∷ bs) each =
      let found = component_held types cells ks vs b (variable.Access each.0.0) have each.0.1 in
      (below_there vs b found.0 found.1, are_below bs each.1)

  no_reference : (access : ℕ) (v : Value) → IsAccess cells access v → refers v ≡ false
  no_reference access Null has = refl
  no_reference access (Names o) has = refl
  no_reference access (Scalar v) has = refl
  no_reference access (Part o place) has = absurd has

  -- What components of access types hold refers to no part of an object.
  are_no_references : (bs : List ℕ) → AreAccess ks bs → AreNoReferences (values_at bs vs)
  are_no_references [] each = tt
  are_no_references (b ∷ bs) each =
      let found = component_held types cells ks vs b (variable.Access each.0.0) have each.0.1 in
      (ap refers (read_there vs b found.0 found.1) ∙ no_reference each.0.0.0 found.0 found.2, are_no_references bs each.1)

-- Components of a record that are apart are so in the object in which it lies.
none_shifted : (base c : ℕ) (cs : List ℕ) → IsNoneOf c cs → IsNoneOf (base + c) (shifted base cs)
none_shifted base c [] none = tt
none_shifted base c (d ∷ ds) none = (shifted_same base c d ∙ none.0, none_shifted base c ds none.1)

apart_shifted : (base : ℕ) (cs : List ℕ) → AreApart cs → AreApart (shifted base cs)
apart_shifted base [] apart = tt
apart_shifted base (c ∷ cs) apart = (none_shifted base c cs apart.0, apart_shifted base cs apart.1)

-- There are as many places as variables.
length_blanks : (ys : List VariableForm) → length (blanks named ys) ≡ length ys
length_blanks [] = refl
length_blanks (y ∷ ys) = ap suc (length_blanks ys)

-- So it is where the body of an operation begins, one of which holds what its formal parameter refers to.
pub given_count : (v : Value) (ys : List VariableForm) → 0 < length ys → length (given_places named (v ∷ []) ys) ≡ length ys
given_count v [] some = absurd (omega (arith, some))
given_count v (y ∷ ys) some = ap suc (length_blanks ys)

-- The running activation's variables hold values of their kinds.
held_in : (own : ProgramForm) (s : State) → typed.TypedIn own s → AreHeld own.types (cells_of s.heap) own.variables (places s)
held_in own s (typed.running kinds ready fits) = active_held own.types (cells_of s.heap) own.variables kinds s.activations ready.active
held_in own s (typed.on_jump mode jumps goes) = active_held own.types (cells_of s.heap) own.variables [] s.activations jumps.active
held_in own s (typed.operated kinds ready ended) = active_held own.types (cells_of s.heap) own.variables kinds s.activations ready.active
held_in own s (typed.out_of_operation e kinds jumps ended) = active_held own.types (cells_of s.heap) own.variables [] s.activations jumps.active

-- There is a variable that is of a kind.
pub some_variable : (ys : List VariableForm) (kind : VariableKind) → variable_kind ys 0 ≡ Some kind → 0 < length ys
some_variable [] kind is = absurd (cc is)
some_variable (y ∷ ys) kind is = omega arith

-- Where the first variable refers to this record, the formal parameter does.
formal_first : (w : View) (vs : List Value) (place : Place) → slice_get vs 0 ≡ Some (Part w.object place) → place.component ≡ w.base → FormalIsFirst w vs
formal_first w [] place at_first base = absurd (cc at_first)
formal_first w (v ∷ vs) place at_first base = subst (IsFormal w) (sym (value_is at_first)) (refl, base)
  where
    value_is : {u : Value} → Some v ≡ Some u → v ≡ u
    value_is e = cc e

-- In a typed state of a body that tracks components, these are there in the object in which they lie, and of access types.
pub watched_access :
    (own : ProgramForm) (w : View) → TracksComponents own.types w.tracks own.variables → (s : State) (place : Place) (x : Object) → typed.TypedIn own s
    → slice_get (places s) 0 ≡ Some (Part w.object place) → place.component ≡ w.base → object_at s.heap w.object ≡ Some x
    → (ks : List ComponentKind) × (reached_components own.types x.cell.access ≡ Some ks) × AreAccess ks (watched w)
watched_access own w tracking s place x typing at_first base found =
    let lies =
    formal_lies own.types w s.heap own.variables (places s) tracking.object place x (filled_in own s typing) (held_in own s typing) tracking.formal at_first base found in
    (lies.ks, lies.reached, watched_of_access own.types tracking.object lies.ks w.base w.tracks.components lies.lies tracking.components)

-- That object is watched, where it exists, and no two of the components are one.
pub watched_by :
    (own : ProgramForm) → TablesFit own → (w : View) → TracksComponents own.types w.tracks own.variables → (s : State) (place : Place) (x : Object) → typed.TypedIn own s
    → slice_get (places s) 0 ≡ Some (Part w.object place) → place.component ≡ w.base → length (places s) ≡ length own.variables
    → object_at s.heap w.object ≡ Some x → x.stage ≡ Existing → AreApart w.tracks.components → IsWatched w (places s) s.heap
watched_by own tables w tracking s place x typing at_first base count found exists apart =
    let cells = cells_of s.heap in
    let filled = filled_in own s typing in
    let there = watched_access own w tracking s place x typing at_first base found in
    let own_cell = filled_at own.types cells cells w.object.0 x.cell filled (cell_at s.heap w.object.0 x found) in
    let alike : own_cell.0 ≡ there.0 = some_same (sym own_cell.1 ∙ there.1) in
    let have : HaveKinds own.types cells there.0 x.cell.values = subst (λ (ks : List ComponentKind). HaveKinds own.types cells ks x.cell.values) alike own_cell.2 in
    let each : AreAccess there.0 (watched w) = there.2 in
    record {
      object = x;
      at_object = found;
      existing = exists;
      below = are_below own.types cells there.0 x.cell.values have (watched w) each;
      apart = apart_shifted w.base w.tracks.components apart;
      no_references = subst (λ (o : Option Object). AreNoReferences (values_at (watched w) (values_of o))) (sym found) (are_no_references own.types cells there.0 x.cell.values have (watched w) each);
      formal = formal_first w (places s) place at_first base;
      count = count ∙ sym tracking.behind;
    }
  where
    some_same : {us vs : List ComponentKind} → Some us ≡ Some vs → us ≡ vs
    some_same e = cc e
