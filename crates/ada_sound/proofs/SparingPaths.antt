-- What the body of an Adjust that spares the access type of the object that is adjusted (7.6) finds on its paths: where it goes on from what it finds, that is
-- another object.

use Rattle.std.proofs.Common.{◌≡◌, ℕ, zero, suc, Bool, true, false, not, List, [], ◌∷◌, Option, Some, drop, refl, sym, ap, ◌∙◌, subst}
use Rattle.std.specs.Prelude.{◌==◌}
use Rattle.std.specs.List.{list_all, slice_get}
use Rattle.std.proofs.lemmas.Bool.{and_parts, eqb-true, eq-eqb, false_from_ne_true, not_from_true, true≢false}
use Rattle.ada_program.specs.declared.program.ComponentKind.{ComponentKind}
use Rattle.ada_program.specs.declared.program.ComponentKind.TheVariants as component
use Rattle.ada_program.specs.declared.program.TypeNo.{TypeNo}
use Rattle.ada_program.specs.declared.program.VariableKind.{VariableKind}
use Rattle.ada_program.specs.declared.program.VariableKind.TheVariants as variable
use Rattle.ada_program.specs.ProgramForm.{TypeForm, VariableForm}
use Rattle.ada_program.specs.WellFormed.{held_kind, kind_among, reached_components, variable_kind}
use Rattle.ada_meaning.specs.declared.state.Id.{Id}
use Rattle.ada_meaning.specs.declared.state.Value.{Value}
use Rattle.ada_meaning.specs.declared.state.Value.TheVariants.{Null, Names, Scalar, Part}
use Rattle.ada_meaning.specs.Heap.{Cell, finds}
use Rattle.ada_meaning.specs.Step.{before_last, held, places, selected}
use Rattle.ada_meaning.specs.Named.{Object, State, named, object_at, look, whole, inside}
use Rattle.ada_quiet.specs.Simple.{holds_one_value}
use Rattle.ada_tracked.specs.Looking.{LandsElsewhere, StartsElsewhere, HoldsElsewhere, HolderIsElsewhere, FreedIsElsewhere}
use Rattle.ada_tracked.specs.Seen.{IsOther}
use Rattle.ada_typed.specs.Holding.{Designates, HasKind, cells_of}
use Rattle.ada_typed.proofs.Evaluations.{own_access}
use Rattle.ada_reaching.specs.Forms.{may_follow, selectors_shun}
use Rattle.ada_reaching.proofs.Paths.{IsBegun, IsSound, begun, found_there}
use Rattle.ada_reaching.proofs.Selections.{IsRooted, held_in, shun_behind, shun_first}

-- This access type is shunned, and no other.
abbrev pub is_around : (around access : ℕ) → Bool
is_around around t = t == around

-- What a path has found leads to another object, if it is followed further.
abbrev pub ReadsOther : Id → (selectors : List ℕ) → Value → Type 0
ReadsOther o [] v = Unit {0}
ReadsOther o (c ∷ cs) v = IsOther o v

-- So it is with what is found where selectors are followed from a value.
abbrev pub FindsOther : Id → List Object → (selectors : List ℕ) → Value → Type 0
FindsOther o heap [] v = Unit {0}
FindsOther o heap (c ∷ cs) v = (cell : Cell Value) (u : Value) → look heap v ≡ finds cell → slice_get cell.values c ≡ Some u → ReadsOther o cs u

-- The object leads to another one in which a value lies that does.
whole_other : (o : Id) (v : Value) → IsOther o v → IsOther o (whole v)
whole_other o Null other = refl
whole_other o (Names p) other = other
whole_other o (Scalar n) other = refl
whole_other o (Part p place) other = other

-- What is found is another object, if that matters.
pub lands : (o : Id) (awaits : Bool) (v : Value) → (awaits ≡ true → IsOther o v) → LandsElsewhere o awaits v
lands o true v other = other refl
lands o false v other = tt

-- A component holds an Integer, a Boolean or an access value (3.8).
component_holds_one : (kind : ComponentKind) → holds_one_value (held_kind kind) ≡ true
component_holds_one (component.Integer initial) = refl
component_holds_one (component.Boolean initial) = refl
component_holds_one (component.Access access) = refl

-- So does each of some variables.
one_at :
    (variables : List VariableForm) (r : ℕ) (kind : VariableKind) → list_all (λ y. holds_one_value y.kind) variables ≡ true
    → variable_kind variables r ≡ Some kind → holds_one_value kind ≡ true
one_at [] r kind all is = absurd (cc)
one_at (v ∷ variables) zero kind all is =
    let same : v.kind ≡ kind = cc in
    ap holds_one_value (sym same) ∙ (and_parts (holds_one_value v.kind) (list_all (λ y. holds_one_value y.kind) variables) all).0
one_at (v ∷ variables) (suc r) kind all is =
    one_at variables r kind (and_parts (holds_one_value v.kind) (list_all (λ y. holds_one_value y.kind) variables) all).1 is

-- So does each but the first one.
one_behind :
    (variables : List VariableForm) (r : ℕ) (kind : VariableKind) → list_all (λ y. holds_one_value y.kind) (drop 1 variables) ≡ true
    → variable_kind variables (suc r) ≡ Some kind → holds_one_value kind ≡ true
one_behind [] r kind all is = absurd (cc)
one_behind (v ∷ variables) r kind all is = one_at variables r kind all is

-- One kind is that of both.
same_kind : {a b : VariableKind} → Some a ≡ Some b → a ≡ b
same_kind e = cc

-- In a state whose values are of their kinds, of whose variables none is a record but the first one: an object, and the access type that is shunned, its own.
module _ (types : List TypeForm) (variables : List VariableForm) (s : State) (sound : IsSound types variables s.heap (places s))
    (plain : list_all (λ y. holds_one_value y.kind) (drop 1 variables) ≡ true) (o : Id) (x : Object) (found : object_at s.heap o ≡ Some x) where
  -- Which types are shunned.
  abbrev shuns : ℕ → Bool
  shuns = is_around x.cell.access

  -- What names an object of another type names another object.
  named_other : (q : Id) (access : ℕ) → Designates (cells_of s.heap) access q → not (shuns access) ≡ true → IsOther o (Names q)
  named_other q access has other =
      false_from_ne_true (q.0 == o.0)
      (λ same.
      let own : x.cell.access ≡ access = own_access s.heap q access x has (ap (slice_get s.heap) (eqb-true q.0 o.0 same) ∙ found) in
      true≢false (sym other ∙ not_from_true (shuns access) (eq-eqb access x.cell.access (sym own))))

  -- A value that may be followed leads to another object, if it is of a kind other than a record's.
  value_other :
      (kind : VariableKind) (v : Value) → holds_one_value kind ≡ true → HasKind types (cells_of s.heap) kind v → may_follow shuns (Some kind) ≡ true
      → IsOther o v
  value_other kind Null one has may = refl
  value_other variable.Integer (Names q) one has may = absurd has
  value_other variable.Boolean (Names q) one has may = absurd has
  value_other (variable.Access access) (Names q) one has may = named_other q access.0 has may
  value_other (variable.Record object) (Names q) one has may = absurd (cc)
  value_other kind (Scalar n) one has may = refl
  value_other variable.Integer (Part q place) one has may = absurd has
  value_other variable.Boolean (Part q place) one has may = absurd has
  value_other (variable.Access access) (Part q place) one has may = absurd has
  value_other (variable.Record object) (Part q place) one has may = absurd (cc)

  -- What a component holds of the object that a value names may be followed.
  abbrev pub MayFollowIn : Value → (component : ℕ) → Type 0
  MayFollowIn v c =
      (q : Id) (y : Object) → v ≡ Names q → object_at s.heap q ≡ Some y → may_follow shuns (kind_among (reached_components types y.cell.access) c) ≡ true

  -- So it leads to another object.
  pub component_other :
      (v : Value) (c : ℕ) → MayFollowIn v c → (cell : Cell Value) (u : Value) → look s.heap v ≡ finds cell → slice_get cell.values c ≡ Some u → IsOther o u
  component_other v c may cell u is holds =
      let f = found_there s.heap v cell is in
      let own = held_in types s.heap sound.filled f.name f.object c u f.there (ap (λ (own : Cell Value). slice_get own.values c) f.own ∙ holds) in
      value_other (held_kind own.0) u (component_holds_one own.0) own.2 (ap (may_follow shuns) (sym own.1) ∙ may f.name f.object f.named_so f.there)

  -- What a variable holds that may be followed leads to another object, if it is not the first one.
  variable_other :
      (r : ℕ) (kind : VariableKind) → variable_kind variables (suc r) ≡ Some kind → may_follow shuns (Some kind) ≡ true
      → IsOther o (held named s (suc r))
  variable_other r kind is may = value_other kind (held named s (suc r)) (one_behind variables r kind plain is) (sound.holds (suc r) kind is) may

  -- So does what it is followed to from there.
  root_other :
      (r : ℕ) (kind : VariableKind) → variable_kind variables (suc r) ≡ Some kind → may_follow shuns (Some kind) ≡ true
      → IsOther o (whole (held named s (suc r)))
  root_other r kind is may = whole_other o (held named s (suc r)) (variable_other r kind is may)

  -- So it is with a path from one of those.
  first_other :
      (r c : ℕ) (cs : List ℕ) (to : VariableKind) → IsRooted types variables (suc r) (c ∷ cs) to
      → selectors_shun types shuns (variable_kind variables (suc r)) (c ∷ cs) ≡ true → IsOther o (whole (held named s (suc r)))
  first_other r c cs to root shun =
      root_other r root.from root.held
      (ap (may_follow shuns) (sym root.held) ∙ shun_first types shuns (variable_kind variables (suc r)) c cs shun)

  -- What is selected first on a path follows nothing that is shunned behind it.
  begun_shun :
      (r c : ℕ) (cs : List ℕ) (to : VariableKind) (start : IsBegun types variables s.heap (held named s r) r c cs to)
      → selectors_shun types shuns (variable_kind variables r) (c ∷ cs) ≡ true → selectors_shun types shuns (Some start.kind) cs ≡ true
  begun_shun r c cs to start shun =
      ap (λ (kind : Option VariableKind). selectors_shun types shuns kind cs) (sym start.selects)
      ∙ shun_behind types shuns (variable_kind variables r) c cs shun

  -- So it may be followed, if something is selected behind it.
  first_follows :
      (r c d : ℕ) (cs : List ℕ) (to : VariableKind) → IsRooted types variables r (c ∷ d ∷ cs) to
      → selectors_shun types shuns (variable_kind variables r) (c ∷ d ∷ cs) ≡ true → MayFollowIn (whole (held named s r)) (inside (held named s r) c)
  first_follows r c d cs to root shun = λ q y e there.
      let start = begun types variables s.heap (places s) sound r c (d ∷ cs) to root in
      ap (may_follow shuns) (start.lies q y e there) ∙ shun_first types shuns (Some start.kind) d cs (begun_shun r c (d ∷ cs) to start shun)

  -- A path looks elsewhere as it begins.
  pub starts_elsewhere :
      (r : ℕ) (cs : List ℕ) (to : VariableKind) → IsRooted types variables r cs to → selectors_shun types shuns (variable_kind variables r) cs ≡ true
      → StartsElsewhere o r cs (held named s r)
  starts_elsewhere r [] to root shun = tt
  starts_elsewhere zero (c ∷ cs) to root shun = tt
  starts_elsewhere (suc r) (c ∷ cs) to root shun = first_other r c cs to root shun

  -- So does the way to the object of its last component, where it leads through another one.
  holder_holds :
      (r c d : ℕ) (cs : List ℕ) (to : VariableKind) → IsRooted types variables r (c ∷ d ∷ cs) to
      → selectors_shun types shuns (variable_kind variables r) (c ∷ d ∷ cs) ≡ true
      → HoldsElsewhere o s.heap true (whole (held named s r)) (inside (held named s r) c) (before_last d cs)
  holder_holds r c d [] to root shun =
      component_other (whole (held named s r)) (inside (held named s r) c) (first_follows r c d [] to root shun)
  holder_holds r c d (e ∷ cs) to root shun = tt

  -- And so it does in any case.
  pub holder_elsewhere :
      (r : ℕ) (cs : List ℕ) (to : VariableKind) → IsRooted types variables r cs to → selectors_shun types shuns (variable_kind variables r) cs ≡ true
      → HolderIsElsewhere o s.heap r cs (held named s r)
  holder_elsewhere r [] to root shun = tt
  holder_elsewhere zero (c ∷ []) to root shun = tt
  holder_elsewhere zero (c ∷ d ∷ cs) to root shun = holder_holds zero c d cs to root shun
  holder_elsewhere (suc r) (c ∷ []) to root shun = first_other r c [] to root shun
  holder_elsewhere (suc r) (c ∷ d ∷ cs) to root shun = (first_other r c (d ∷ cs) to root shun, holder_holds (suc r) c d cs to root shun)

  -- A Free looks elsewhere as it begins (13.11.2).
  pub freed_elsewhere :
      (r : ℕ) (cs : List ℕ) (own : TypeNo) → IsRooted types variables r cs (variable.Access own)
      → selectors_shun types shuns (variable_kind variables r) cs ≡ true → may_follow shuns (Some (variable.Access own)) ≡ true
      → FreedIsElsewhere o s.heap r cs (held named s r)
  freed_elsewhere r [] own root shun may =
      let kind : root.from ≡ variable.Access own = same_kind root.leads in
      value_other (variable.Access own) (held named s r) refl
      (subst (λ (k : VariableKind). HasKind types (cells_of s.heap) k (held named s r)) kind (sound.holds r root.from root.held)) may
  freed_elsewhere r (c ∷ cs) own root shun may = holder_elsewhere r (c ∷ cs) (variable.Access own) root shun

  -- What a path finds leads to another object, if the path goes on.
  pub named_finds :
      (r : ℕ) (cs : List ℕ) (to : VariableKind) → IsRooted types variables r cs to → selectors_shun types shuns (variable_kind variables r) cs ≡ true
      → FindsOther o s.heap (selected named (held named s r) cs) (whole (held named s r))
  named_finds r [] to root shun = tt
  named_finds r (c ∷ []) to root shun = λ cell u is holds. tt
  named_finds r (c ∷ d ∷ cs) to root shun =
      component_other (whole (held named s r)) (inside (held named s r) c) (first_follows r c d cs to root shun)

  -- So it is on the way to the object of its last component.
  pub holder_finds :
      (r c : ℕ) (cs : List ℕ) (to : VariableKind) → IsRooted types variables r (c ∷ cs) to
      → selectors_shun types shuns (variable_kind variables r) (c ∷ cs) ≡ true
      → FindsOther o s.heap (before_last (inside (held named s r) c) cs) (whole (held named s r))
  holder_finds r c [] to root shun = tt
  holder_finds r c (d ∷ []) to root shun = λ cell u is holds. tt
  holder_finds r c (d ∷ e ∷ cs) to root shun =
      component_other (whole (held named s r)) (inside (held named s r) c) (first_follows r c d (e ∷ cs) to root shun)
