-- Records as wholes: the components of one are copied onto the operands, or get the values of the newest operands.

use Rattle.ada_typed.specs.Holding.{Cells, Designates, IsAccess, HasKind, HaveKinds, PartsLie, cells_of}
use Rattle.std.proofs.Common.{◌≡◌, ℕ, zero, suc, ◌+◌, true, List, [], ◌∷◌, length, drop, Option, Some, None, arith, refl, sym, ap, ◌∙◌, subst}
use Rattle.std.proofs.lemmas.Bool.{eqb-true}
use Rattle.std.specs.List.{slice_get}
use Rattle.ada_program.specs.declared.program.ComponentKind.{ComponentKind}
use Rattle.ada_program.specs.declared.program.Exception.TheVariants.{ConstraintError}
use Rattle.ada_program.specs.declared.program.TypeNo.{TypeNo}
use Rattle.ada_program.specs.declared.program.VariableKind.TheVariants as variable
use Rattle.ada_program.specs.Form.{ItemForm}
use Rattle.ada_program.specs.ProgramForm.{TypeForm, record_of, access_to, object_of, ProgramForm}
use Rattle.ada_program.specs.WellFormed.{components_reached, named_in, object_in, is_this, reached_components, record_components, object_named, held_kind, selected_kind, kind_among, begins_with, has_record_at, items_fit}
use Rattle.ada_meaning.specs.declared.state.Id.{Id}
use Rattle.ada_meaning.specs.declared.state.Place.{Place}
use Rattle.ada_meaning.specs.declared.state.Value.{Value}
use Rattle.ada_meaning.specs.declared.state.Value.TheVariants.{Null, Names, Scalar, Part}
use Rattle.ada_meaning.specs.declared.state.Stage.{Stage}
use Rattle.ada_meaning.specs.declared.state.Stage.TheVariants.{Building, Existing, Gone}
use Rattle.ada_meaning.specs.Frame.{Frame}
use Rattle.ada_meaning.specs.Frame as frame
use Rattle.ada_meaning.specs.Heap.{Cell}
use Rattle.ada_meaning.specs.Step.{operands, referred_next, refers_next, set_operands, in_front, record_in, copied_next, copies_next, newest_ones, without_newest, record_target_next, stored_from, record_stored_next, store_record_next}
use Rattle.ada_meaning.specs.Named.{Object, State, named, look, seen, existing, store}
use Rattle.ada_typed.proofs.Values.{OperandKind, of_kind, refers_to, lies_in, IsOperand, RefersToRecord, kinds_later, filled_at}
use Rattle.ada_typed.proofs.Records.{active_front, record_held, record_first, reached_record}
use Rattle.ada_typed.proofs.Control.{onto, IsName, IsReference, Fits, Ready, TypedIn, running}
use Rattle.ada_typed.proofs.Evaluations.{Fine, cell_at, own_access, ready_at, ready_operand, raises, active_without, active_values}
use Rattle.ada_typed.proofs.Targets.{stored}

-- There is an object where there is a cell.
object_there : (xs : List Object) (i : ℕ) (cell : Cell Value) → slice_get (cells_of xs) i ≡ Some cell → (object : Object) × (slice_get xs i ≡ Some object)
object_there [] i cell is = absurd (cc)
object_there (x ∷ xs) zero cell is = (x, refl)
object_there (x ∷ xs) (suc i) cell is = object_there xs i cell is

-- The type of a formal parameter that is a record names that record's.
object_names : (o : Option TypeForm) (t : ℕ) → is_this t (object_in o) ≡ true → named_in o ≡ Some t
object_names None t is = absurd (cc)
object_names (Some (record_of name parts components finalization)) t is = absurd (cc)
object_names (Some (access_to name designated pool)) t is = absurd (cc)
object_names (Some (object_of record_type)) t is = ap Some (eqb-true record_type t is)

module _ (p : ProgramForm) where
  -- The values of the newest operands, which wait for the components of a record, and the state without them.
  pub newest_have : (rs : List ComponentKind) (ks : List OperandKind) (s : State) → Ready p (onto rs ks) s → HaveKinds p.types (cells_of s.heap) rs (newest_ones named (length rs) s)
  newest_have rs ks s ready = active_values p (cells_of s.heap) rs ks s.activations ready.active

  pub ready_without : (rs : List ComponentKind) (ks : List OperandKind) (s : State) → Ready p (onto rs ks) s → Ready p ks (without_newest named (length rs) s)
  ready_without rs ks s ready = record {
    filled = ready.filled;
    active = active_without p (cells_of s.heap) rs ks s.activations ready.active;
    runs = ready.runs;
    deep = ready.deep;
  }

  ready_front : (rs : List ComponentKind) (vs : List Value) (kinds : List OperandKind) (s : State) → HaveKinds p.types (cells_of s.heap) rs vs → Ready p kinds s → Ready p (onto rs kinds) (set_operands (in_front vs (operands s)) s)
  ready_front rs vs kinds s have ready = record {
    filled = ready.filled;
    active = active_front p.types (cells_of s.heap) p.variables rs kinds vs s.activations have ready.active;
    runs = ready.runs;
    deep = ready.deep;
  }

  -- The record is there, and what it holds is of the kinds of its components.
  record_there : (o : Id) (access : TypeNo) (first : ℕ) (rs : List ComponentKind) (object : Object) (s : State) (kinds : List OperandKind) → Ready p kinds s → Designates (cells_of s.heap) access.0 o → slice_get s.heap o.0 ≡ Some object → has_record_at (reached_components p.types access.0) first (Some rs) ≡ true → (vs : List Value) × (record_in object.cell.values first (length rs) ≡ Some vs) × HaveKinds p.types (cells_of s.heap) rs vs
  record_there o access first rs object s kinds ready has is lies =
      let cells = cells_of s.heap in
      let own = filled_at p.types cells cells o.0 object.cell ready.filled (cell_at s.heap o.0 object is) in
      let reached : reached_components p.types access.0 ≡ Some own.0 = ap (reached_components p.types) (sym (own_access s.heap o access.0 object has is)) ∙ own.1 in
      let begins : begins_with (drop first own.0) rs ≡ true = ap (λ (found : Option (List ComponentKind)). has_record_at found first (Some rs)) (sym reached) ∙ lies in
      record_held p.types cells own.0 rs object.cell.values first own.2 begins

  -- A record is copied.
  copied_fine : (o : Id) (access : TypeNo) (first : ℕ) (rs : List ComponentKind) (object : Object) (s : State) (kinds : List OperandKind) → Ready p kinds s → Designates (cells_of s.heap) access.0 o → slice_get s.heap o.0 ≡ Some object → has_record_at (reached_components p.types access.0) first (Some rs) ≡ true → Fits p (cells_of s.heap) (onto rs kinds) s.control → Fine p (copied_next named (Names o) (record_in object.cell.values first (length rs)) s)
  copied_fine o access first rs object s kinds ready has is lies fits =
      let there = record_there o access first rs object s kinds ready has is lies in
      subst (λ (found : Option (List Value)). Fine p (copied_next named (Names o) found s)) (sym there.1) (running (onto rs kinds) (ready_front rs there.0 kinds s there.2 ready) fits)

  copies_stage : (stage : Stage) (o : Id) (access : TypeNo) (first : ℕ) (rs : List ComponentKind) (object : Object) (s : State) (kinds : List OperandKind) → Ready p kinds s → Designates (cells_of s.heap) access.0 o → slice_get s.heap o.0 ≡ Some object → has_record_at (reached_components p.types access.0) first (Some rs) ≡ true → Fits p (cells_of s.heap) (onto rs kinds) s.control → Fine p (copies_next named (Names o) first (length rs) (existing object stage) s)
  copies_stage Gone o access first rs object s kinds ready has is lies fits = tt
  copies_stage Building o access first rs object s kinds ready has is lies fits = copied_fine o access first rs object s kinds ready has is lies fits
  copies_stage Existing o access first rs object s kinds ready has is lies fits = copied_fine o access first rs object s kinds ready has is lies fits

  copies_seen : (at_o : Option Object) (o : Id) (access : TypeNo) (first : ℕ) (rs : List ComponentKind) (s : State) (kinds : List OperandKind) → Ready p kinds s → Designates (cells_of s.heap) access.0 o → slice_get s.heap o.0 ≡ at_o → has_record_at (reached_components p.types access.0) first (Some rs) ≡ true → Fits p (cells_of s.heap) (onto rs kinds) s.control → Fine p (copies_next named (Names o) first (length rs) (seen at_o) s)
  copies_seen None o access first rs s kinds ready has is lies fits = tt
  copies_seen (Some object) o access first rs s kinds ready has is lies fits = copies_stage object.stage o access first rs object s kinds ready has is lies fits

  pub copies_fine : (v : Value) (access : TypeNo) (first : ℕ) (rs : List ComponentKind) (s : State) (kinds : List OperandKind) → Ready p kinds s → HasKind p.types (cells_of s.heap) (variable.Access access) v → has_record_at (reached_components p.types access.0) first (Some rs) ≡ true → Fits p (cells_of s.heap) (onto rs kinds) s.control → Fine p (copies_next named v first (length rs) (look s.heap v) s)
  copies_fine Null access first rs s kinds ready has lies fits = raises p kinds (onto rs kinds) ConstraintError s ready fits
  copies_fine (Names o) access first rs s kinds ready has lies fits = copies_seen (slice_get s.heap o.0) o access first rs s kinds ready has refl lies fits
  copies_fine (Scalar v) access first rs s kinds ready has lies fits = absurd has
  copies_fine (Part q place) access first rs s kinds ready has lies fits = absurd has

  -- A record is referred to that is given, or assigned to another: what refers to it is an operand of the kind that is wanted.
  referred : (o : Id) (place : Place) (access : TypeNo) (kind : OperandKind) (t : ℕ) (cells : Cells) → Designates cells access.0 o → has_record_at (reached_components p.types access.0) place.component (record_components p.types t) ≡ true → PartsLie p.types (object_named p.types (Some access.0)) (Some t) place.component place.part → IsReference p.types kind t → IsOperand p.types cells kind (Part o place)
  referred o place access (of_kind variable.Integer) t cells has lies parts is = absurd is
  referred o place access (of_kind variable.Boolean) t cells has lies parts is = absurd is
  referred o place access (of_kind (variable.Access other)) t cells has lies parts is = absurd is
  referred o place access (of_kind (variable.Record object)) t cells has lies parts is =
      let named_so : named_in (slice_get p.types object.0) ≡ Some t = object_names (slice_get p.types object.0) t is in (
        has.0,
        has.1,
        ap (λ (a : ℕ). has_record_at (reached_components p.types a) place.component (reached_components p.types object.0)) has.2
            ∙ ap (λ (own : Option ℕ). has_record_at (reached_components p.types access.0) place.component (components_reached p.types own)) named_so ∙ lies,
        subst (λ (a : ℕ). PartsLie p.types (object_named p.types (Some a)) (object_named p.types (Some object.0)) place.component place.part) (sym has.2)
            (subst (λ (own : Option ℕ). PartsLie p.types (object_named p.types (Some access.0)) own place.component place.part) (sym named_so) parts),
      )
  referred o place access (refers_to kind) t cells has lies parts is = absurd is
  referred o place access (lies_in u) t cells has lies parts is =
      subst (λ (v : ℕ). RefersToRecord p.types cells v (Part o place)) (sym is) (
        has.0,
        has.1,
        ap (λ (a : ℕ). has_record_at (reached_components p.types a) place.component (record_components p.types t)) has.2 ∙ lies,
        subst (λ (a : ℕ). PartsLie p.types (object_named p.types (Some a)) (Some t) place.component place.part) (sym has.2) parts,
      )

  referred_fine : (o : Id) (access : TypeNo) (kind : OperandKind) (t : ℕ) (place : Place) (rs : List ComponentKind) (object : Object) (s : State) (kinds : List OperandKind) → Ready p kinds s → Designates (cells_of s.heap) access.0 o → slice_get s.heap o.0 ≡ Some object → record_components p.types t ≡ Some rs → has_record_at (reached_components p.types access.0) place.component (Some rs) ≡ true → PartsLie p.types (object_named p.types (Some access.0)) (Some t) place.component place.part → IsReference p.types kind t → Fits p (cells_of s.heap) (kind ∷ kinds) s.control → Fine p (referred_next named (Names o) place (record_in object.cell.values place.component (length rs)) s)
  referred_fine o access kind t place rs object s kinds ready has is recorded lies parts wanted fits =
      let there = record_there o access place.component rs object s kinds ready has is lies in
      let own = ap (λ (found : Option (List ComponentKind)). has_record_at (reached_components p.types access.0) place.component found) recorded ∙ lies in
      subst (λ (found : Option (List Value)). Fine p (referred_next named (Names o) place found s)) (sym there.1)
      (running (kind ∷ kinds) (ready_operand p kinds s kind (Part o place) ready (referred o place access kind t (cells_of s.heap) has own parts wanted)) fits)

  refers_stage : (stage : Stage) (o : Id) (access : TypeNo) (kind : OperandKind) (t : ℕ) (place : Place) (rs : List ComponentKind) (object : Object) (s : State) (kinds : List OperandKind) → Ready p kinds s → Designates (cells_of s.heap) access.0 o → slice_get s.heap o.0 ≡ Some object → record_components p.types t ≡ Some rs → has_record_at (reached_components p.types access.0) place.component (Some rs) ≡ true → PartsLie p.types (object_named p.types (Some access.0)) (Some t) place.component place.part → IsReference p.types kind t → Fits p (cells_of s.heap) (kind ∷ kinds) s.control → Fine p (refers_next named (Names o) place (length rs) (existing object stage) s)
  refers_stage Gone o access kind t place rs object s kinds ready has is recorded lies parts wanted fits = tt
  refers_stage Building o access kind t place rs object s kinds ready has is recorded lies parts wanted fits = referred_fine o access kind t place rs object s kinds ready has is recorded lies parts wanted fits
  refers_stage Existing o access kind t place rs object s kinds ready has is recorded lies parts wanted fits = referred_fine o access kind t place rs object s kinds ready has is recorded lies parts wanted fits

  refers_seen : (at_o : Option Object) (o : Id) (access : TypeNo) (kind : OperandKind) (t : ℕ) (place : Place) (rs : List ComponentKind) (s : State) (kinds : List OperandKind) → Ready p kinds s → Designates (cells_of s.heap) access.0 o → slice_get s.heap o.0 ≡ at_o → record_components p.types t ≡ Some rs → has_record_at (reached_components p.types access.0) place.component (Some rs) ≡ true → PartsLie p.types (object_named p.types (Some access.0)) (Some t) place.component place.part → IsReference p.types kind t → Fits p (cells_of s.heap) (kind ∷ kinds) s.control → Fine p (refers_next named (Names o) place (length rs) (seen at_o) s)
  refers_seen None o access kind t place rs s kinds ready has is recorded lies parts wanted fits = tt
  refers_seen (Some object) o access kind t place rs s kinds ready has is recorded lies parts wanted fits = refers_stage object.stage o access kind t place rs object s kinds ready has is recorded lies parts wanted fits

  pub refers_fine : (v : Value) (access : TypeNo) (kind : OperandKind) (t : ℕ) (place : Place) (rs : List ComponentKind) (s : State) (kinds : List OperandKind) → Ready p kinds s → HasKind p.types (cells_of s.heap) (variable.Access access) v → record_components p.types t ≡ Some rs → has_record_at (reached_components p.types access.0) place.component (Some rs) ≡ true → PartsLie p.types (object_named p.types (Some access.0)) (Some t) place.component place.part → IsReference p.types kind t → Fits p (cells_of s.heap) (kind ∷ kinds) s.control → Fine p (refers_next named v place (length rs) (look s.heap v) s)
  refers_fine Null access kind t place rs s kinds ready has recorded lies parts wanted fits = raises p kinds (kind ∷ kinds) ConstraintError s ready fits
  refers_fine (Names o) access kind t place rs s kinds ready has recorded lies parts wanted fits = refers_seen (slice_get s.heap o.0) o access kind t place rs s kinds ready has refl recorded lies parts wanted fits
  refers_fine (Scalar held) access kind t place rs s kinds ready has recorded lies parts wanted fits = absurd has
  refers_fine (Part q other) access kind t place rs s kinds ready has recorded lies parts wanted fits = absurd has

  -- The object is there in which the record lies that is assigned to: the items are evaluated next.
  record_target_stage : (stage : Stage) (o : Id) (access : TypeNo) (first : ℕ) (rs : List ComponentKind) (items : List ItemForm) (object : Object) (s : State) (kinds : List OperandKind) → Ready p kinds s → Designates (cells_of s.heap) access.0 o → has_record_at (reached_components p.types access.0) first (Some rs) ≡ true → items_fit p.types p.variables rs items ≡ true → Fits p (cells_of s.heap) kinds s.control → Fine p (record_target_next named (Names o) first (length rs) items (existing object stage) s)
  record_target_stage Gone o access first rs items object s kinds ready has lies fill fits = tt
  record_target_stage Building o access first rs items object s kinds ready has lies fill fits =
      running kinds (ready_at p kinds s (frame.Fills items ∷ frame.StoresRecord (Names o) first (length rs) ∷ s.control) ready ready.deep) (rs, fill, (kinds, access, rs, refl, refl, tt, has, lies, fits))
  record_target_stage Existing o access first rs items object s kinds ready has lies fill fits =
      running kinds (ready_at p kinds s (frame.Fills items ∷ frame.StoresRecord (Names o) first (length rs) ∷ s.control) ready ready.deep) (rs, fill, (kinds, access, rs, refl, refl, tt, has, lies, fits))

  record_target_seen : (at_o : Option Object) (o : Id) (access : TypeNo) (first : ℕ) (rs : List ComponentKind) (items : List ItemForm) (s : State) (kinds : List OperandKind) → Ready p kinds s → Designates (cells_of s.heap) access.0 o → has_record_at (reached_components p.types access.0) first (Some rs) ≡ true → items_fit p.types p.variables rs items ≡ true → Fits p (cells_of s.heap) kinds s.control → Fine p (record_target_next named (Names o) first (length rs) items (seen at_o) s)
  record_target_seen None o access first rs items s kinds ready has lies fill fits = tt
  record_target_seen (Some object) o access first rs items s kinds ready has lies fill fits = record_target_stage object.stage o access first rs items object s kinds ready has lies fill fits

  pub record_target_fine : (v : Value) (access : TypeNo) (first : ℕ) (rs : List ComponentKind) (items : List ItemForm) (s : State) (kinds : List OperandKind) → Ready p kinds s → HasKind p.types (cells_of s.heap) (variable.Access access) v → has_record_at (reached_components p.types access.0) first (Some rs) ≡ true → items_fit p.types p.variables rs items ≡ true → Fits p (cells_of s.heap) kinds s.control → Fine p (record_target_next named v first (length rs) items (look s.heap v) s)
  record_target_fine Null access first rs items s kinds ready has lies fill fits = raises p kinds kinds ConstraintError s ready fits
  record_target_fine (Names o) access first rs items s kinds ready has lies fill fits = record_target_seen (slice_get s.heap o.0) o access first rs items s kinds ready has lies fill fits
  record_target_fine (Scalar v) access first rs items s kinds ready has lies fill fits = absurd has
  record_target_fine (Part q place) access first rs items s kinds ready has lies fill fits = absurd has

  -- The components of a record get values of their kinds, one after the other.
  all_stored : (vs : List Value) (rs cs : List ComponentKind) (o : Id) (access : TypeNo) (c : ℕ) (s : State) (kinds : List OperandKind) → Ready p kinds s → Designates (cells_of s.heap) access.0 o → reached_components p.types access.0 ≡ Some cs → begins_with (drop c cs) rs ≡ true → HaveKinds p.types (cells_of s.heap) rs vs → Fits p (cells_of s.heap) kinds s.control → TypedIn p (record s { heap = stored_from named s.heap (Names o) c vs })
  all_stored [] [] cs o access c s kinds ready has reached begins have fits = running kinds ready fits
  all_stored [] (k ∷ rs) cs o access c s kinds ready has reached begins have fits = absurd have
  all_stored (v ∷ vs) [] cs o access c s kinds ready has reached begins have fits = absurd have
  all_stored (v ∷ vs) (k ∷ rs) cs o access c s kinds ready has reached begins have fits =
      let here = record_first cs rs c k begins in
      let object = object_there s.heap o.0 has.0 has.1 in
      let leads : selected_kind p.types (Some (variable.Access access)) c ≡ Some (held_kind k) = ap (λ (found : Option (List ComponentKind)). kind_among found c) reached ∙ here.0 in
      let after = stored p o access c v (held_kind k) object.0 s kinds ready has object.1 leads have.0 fits in
      let heap = store s.heap (Names o) c v in
      let next : suc c ≡ c + 1 = omega arith in
      all_stored vs rs cs o access (c + 1) (record s { heap = heap }) kinds (record { filled = after.filled; active = after.active; runs = ready.runs; deep = ready.deep }) (after.stay access.0 o has) reached
      (subst (λ (i : ℕ). begins_with (drop i cs) rs ≡ true) next here.1) (kinds_later p.types (cells_of s.heap) (cells_of heap) after.stay rs vs have.1) after.fits

  record_stored_fine : (o : Id) (access : TypeNo) (first : ℕ) (rs : List ComponentKind) (object : Object) (s : State) (ks : List OperandKind) → Ready p (onto rs ks) s → Designates (cells_of s.heap) access.0 o → slice_get s.heap o.0 ≡ Some object → has_record_at (reached_components p.types access.0) first (Some rs) ≡ true → Fits p (cells_of s.heap) ks s.control → Fine p (record_stored_next named (Names o) first (newest_ones named (length rs) s) (record_in object.cell.values first (length rs)) (without_newest named (length rs) s))
  record_stored_fine o access first rs object s ks ready has is lies fits =
      let vs = newest_ones named (length rs) s in
      let left = without_newest named (length rs) s in
      let before = record_there o access first rs object s (onto rs ks) ready has is lies in
      let reached = reached_record (reached_components p.types access.0) first rs lies in
      subst (λ (found : Option (List Value)). Fine p (record_stored_next named (Names o) first vs found left)) (sym before.1)
      (all_stored vs rs reached.0 o access first left ks (ready_without rs ks s ready) has reached.1 reached.2 (newest_have rs ks s ready) fits)

  store_record_stage : (stage : Stage) (o : Id) (access : TypeNo) (first : ℕ) (rs : List ComponentKind) (object : Object) (s : State) (ks : List OperandKind) → Ready p (onto rs ks) s → Designates (cells_of s.heap) access.0 o → slice_get s.heap o.0 ≡ Some object → has_record_at (reached_components p.types access.0) first (Some rs) ≡ true → Fits p (cells_of s.heap) ks s.control → Fine p (store_record_next named (Names o) first (length rs) (existing object stage) s)
  store_record_stage Gone o access first rs object s ks ready has is lies fits = tt
  store_record_stage Building o access first rs object s ks ready has is lies fits = record_stored_fine o access first rs object s ks ready has is lies fits
  store_record_stage Existing o access first rs object s ks ready has is lies fits = record_stored_fine o access first rs object s ks ready has is lies fits

  store_record_seen : (at_o : Option Object) (o : Id) (access : TypeNo) (first : ℕ) (rs : List ComponentKind) (s : State) (ks : List OperandKind) → Ready p (onto rs ks) s → Designates (cells_of s.heap) access.0 o → slice_get s.heap o.0 ≡ at_o → has_record_at (reached_components p.types access.0) first (Some rs) ≡ true → Fits p (cells_of s.heap) ks s.control → Fine p (store_record_next named (Names o) first (length rs) (seen at_o) s)
  store_record_seen None o access first rs s ks ready has is lies fits = tt
  store_record_seen (Some object) o access first rs s ks ready has is lies fits = store_record_stage object.stage o access first rs object s ks ready has is lies fits

  pub store_record_fine : (u : Value) (access : TypeNo) (first : ℕ) (rs : List ComponentKind) (s : State) (ks : List OperandKind) → IsName u → Ready p (onto rs ks) s → IsAccess (cells_of s.heap) access.0 u → has_record_at (reached_components p.types access.0) first (Some rs) ≡ true → Fits p (cells_of s.heap) ks s.control → Fine p (store_record_next named u first (length rs) (look s.heap u) s)
  store_record_fine Null access first rs s ks name ready has lies fits = absurd name
  store_record_fine (Names o) access first rs s ks name ready has lies fits = store_record_seen (slice_get s.heap o.0) o access first rs s ks ready has refl lies fits
  store_record_fine (Scalar w) access first rs s ks name ready has lies fits = absurd name
  store_record_fine (Part q place) access first rs s ks name ready has lies fits = absurd name
