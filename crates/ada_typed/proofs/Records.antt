-- Records that lie in objects: where components are alike, what they hold is of the same kinds.

use Rattle.ada_typed.specs.Holding.{Cells, HasKind, HaveKinds, PartsLie}
use Rattle.std.proofs.Common.{◌≡◌, ◌⊎◌, ℕ, zero, suc, ◌+◌, ◌<◌, ◌≤◌, ◌&&◌, if◌then◌else◌, Bool, true, false, List, [], ◌∷◌, length, take, drop, Option, Some, None, arith, refl, sym, ap, ◌∙◌, subst}
use Rattle.std.proofs.lemmas.Bool.{eqb-true, eq-eqb}
use Rattle.std.proofs.lemmas.Grind.{common_steps}
use Rattle.std.specs.List.{slice_get}
use Rattle.ada_program.specs.declared.program.ComponentKind.{ComponentKind}
use Rattle.ada_program.specs.declared.program.ComponentKind.TheVariants as component
use Rattle.ada_program.specs.declared.program.TypeNo.{TypeNo}
use Rattle.ada_program.specs.declared.program.VariableKind.{VariableKind}
use Rattle.ada_program.specs.declared.program.VariableKind.TheVariants as variable
use Rattle.ada_program.specs.ProgramForm.{TypeForm, VariableForm}
use Rattle.ada_program.specs.WellFormed.{reached_components, held_kind, component_kind, kind_among, selected_kind, access_of, is_alike, begins_with, has_record_at, has_parts_from, object_components, object_named, parts_named}
use Rattle.ada_meaning.specs.declared.state.Value.{Value}
use Rattle.ada_meaning.specs.declared.state.Value.TheVariants.{Null, Names, Scalar, Part}
use Rattle.ada_meaning.specs.Named.{whole, inside, part_inside}
use Rattle.ada_meaning.specs.State.{Activation}
use Rattle.ada_meaning.specs.Step.{operands_of, with_operands, in_front, record_in}
use Rattle.ada_typed.proofs.Values.{OperandKind, of_kind, is_record_kind, AreComputed, IsActive}
use Rattle.ada_typed.proofs.Operators.{and_left, and_right}
use Rattle.ada_typed.proofs.Walking.{walks_to, part_of_part}
use Rattle.ada_typed.proofs.Control.{onto}

both : (a b : Bool) → a ≡ true → b ≡ true → (a && b) ≡ true
both true b h g = g
both false b h g = absurd (cc)

-- Components that are alike hold values of one kind.
alike_kind : (c k : ComponentKind) → is_alike c k ≡ true → held_kind c ≡ held_kind k
alike_kind (component.Integer initial) (component.Integer other) h = refl
alike_kind (component.Integer initial) (component.Boolean other) h = absurd (cc)
alike_kind (component.Integer initial) (component.Access access) h = absurd (cc)
alike_kind (component.Boolean initial) (component.Integer other) h = absurd (cc)
alike_kind (component.Boolean initial) (component.Boolean other) h = refl
alike_kind (component.Boolean initial) (component.Access access) h = absurd (cc)
alike_kind (component.Access access) (component.Integer other) h = absurd (cc)
alike_kind (component.Access access) (component.Boolean other) h = absurd (cc)
alike_kind (component.Access access) (component.Access other) h = ap (λ (i : ℕ). variable.Access (record { 0 = i })) (eqb-true access.0 other.0 h)

-- Values for components that begin with those of a record: those of the record come first, and then those that are left.
pub onto_record : (cs rs : List ComponentKind) (kinds : List OperandKind) → begins_with cs rs ≡ true → onto (drop (length rs) cs) (onto rs kinds) ≡ onto cs kinds
onto_record cs [] kinds h = refl
onto_record [] (k ∷ rs) kinds h = absurd (cc)
onto_record (c ∷ cs) (k ∷ rs) kinds h =
    ap (λ (kind : VariableKind). onto (drop (length rs) cs) (onto rs (of_kind kind ∷ kinds))) (sym (alike_kind c k (and_left (is_alike c k) (begins_with cs rs) h))) ∙
    onto_record cs rs (of_kind (held_kind c) ∷ kinds) (and_right (is_alike c k) (begins_with cs rs) h)

-- Values for components, pushed in order.
computed_front : (types : List TypeForm) (cells : Cells) (cs : List ComponentKind) (kinds : List OperandKind) (vs olds : List Value) → HaveKinds types cells cs vs → AreComputed types cells kinds olds → AreComputed types cells (onto cs kinds) (in_front vs olds)
computed_front types cells [] kinds [] olds h k = k
computed_front types cells [] kinds (v ∷ vs) olds h k = absurd h
computed_front types cells (c ∷ cs) kinds [] olds h k = absurd h
computed_front types cells (c ∷ cs) kinds (v ∷ vs) olds h k = computed_front types cells cs (of_kind (held_kind c) ∷ kinds) vs (v ∷ olds) h.1 (h.0, k)

pub active_front : (types : List TypeForm) (cells : Cells) (xs : List VariableForm) (cs : List ComponentKind) (kinds : List OperandKind) (vs : List Value) (acts : List (Activation Value)) → HaveKinds types cells cs vs → IsActive types cells xs kinds acts → IsActive types cells xs (onto cs kinds) (with_operands (in_front vs (operands_of acts)) acts)
active_front types cells xs cs kinds vs [] have h = h
active_front types cells xs cs kinds vs (a ∷ suspended) have h = (h.0, computed_front types cells cs kinds vs a.operands have h.1)

-- The values of some components are of their kinds, too.
kinds_dropped : (types : List TypeForm) (cells : Cells) (n : ℕ) (cs : List ComponentKind) (vs : List Value) → HaveKinds types cells cs vs → HaveKinds types cells (drop n cs) (drop n vs)
kinds_dropped types cells zero cs vs h = h
kinds_dropped types cells (suc n) [] [] h = tt
kinds_dropped types cells (suc n) [] (v ∷ vs) h = absurd h
kinds_dropped types cells (suc n) (c ∷ cs) [] h = absurd h
kinds_dropped types cells (suc n) (c ∷ cs) (v ∷ vs) h = kinds_dropped types cells n cs vs h.1

kinds_taken : (types : List TypeForm) (cells : Cells) (cs rs : List ComponentKind) (vs : List Value) → HaveKinds types cells cs vs → begins_with cs rs ≡ true → HaveKinds types cells rs (take (length rs) vs) × (length (take (length rs) vs) ≡ length rs)
kinds_taken types cells cs [] vs h begins = (tt, refl)
kinds_taken types cells [] (k ∷ rs) vs h begins = absurd (cc)
kinds_taken types cells (c ∷ cs) (k ∷ rs) [] h begins = absurd h
kinds_taken types cells (c ∷ cs) (k ∷ rs) (v ∷ vs) h begins =
    let later = kinds_taken types cells cs rs vs h.1 (and_right (is_alike c k) (begins_with cs rs) begins) in
    let kind : held_kind c ≡ held_kind k = alike_kind c k (and_left (is_alike c k) (begins_with cs rs) begins) in
    ((subst (λ (q : VariableKind). HasKind types cells q v) kind h.0, later.0), ap suc later.1)

-- What a record in an object holds is of the kinds of the record's components.
pub record_held : (types : List TypeForm) (cells : Cells) (cs rs : List ComponentKind) (values : List Value) (first : ℕ) → HaveKinds types cells cs values → begins_with (drop first cs) rs ≡ true → (vs : List Value) × (record_in values first (length rs) ≡ Some vs) × HaveKinds types cells rs vs
record_held types cells cs rs values first h begins =
    let vs = take (length rs) (drop first values) in
    let taken = kinds_taken types cells (drop first cs) rs (drop first values) (kinds_dropped types cells first cs values h) begins in
    (vs, ap (λ (whole : Bool). if whole then Some vs else None) (eq-eqb (length vs) (length rs) taken.1), taken.0)

-- The first component of a record that lies in an object, and the others.
pub record_first : (cs rs : List ComponentKind) (c : ℕ) (k : ComponentKind) → begins_with (drop c cs) (k ∷ rs) ≡ true → (component_kind (slice_get cs c) ≡ Some (held_kind k)) × (begins_with (drop (suc c) cs) rs ≡ true)
record_first [] rs zero k h = absurd (cc)
record_first [] rs (suc c) k h = absurd (cc)
record_first (d ∷ cs) rs zero k h = (ap Some (alike_kind d k (and_left (is_alike d k) (begins_with cs rs) h)), and_right (is_alike d k) (begins_with cs rs) h)
record_first (d ∷ cs) rs (suc c) k h = record_first cs rs c k h

-- There are the components of the object in which a record lies.
pub reached_record : (o : Option (List ComponentKind)) (first : ℕ) (rs : List ComponentKind) → has_record_at o first (Some rs) ≡ true → (cs : List ComponentKind) × (o ≡ Some cs) × (begins_with (drop first cs) rs ≡ true)
reached_record None first rs h = absurd (cc)
reached_record (Some cs) first rs h = (cs, refl, h)

pub record_there : (reached o : Option (List ComponentKind)) (first : ℕ) → has_record_at reached first o ≡ true → (rs : List ComponentKind) × (o ≡ Some rs) × (has_record_at reached first (Some rs) ≡ true)
record_there None o first h = absurd (cc)
record_there (Some cs) None first h = absurd (cc)
record_there (Some cs) (Some rs) first h = (rs, refl, h)

-- So records that lie in objects lead on: what is selected in a record, and what lies in it, is selected and lies in the object, from where the record begins.
begun_kind : (cs ks : List ComponentKind) (c : ℕ) (kind : VariableKind) → begins_with cs ks ≡ true → component_kind (slice_get ks c) ≡ Some kind → component_kind (slice_get cs c) ≡ Some kind
begun_kind cs [] c kind h is = absurd (cc)
begun_kind [] (k ∷ ks) c kind h is = absurd (cc)
begun_kind (d ∷ cs) (k ∷ ks) zero kind h is = ap Some (alike_kind d k (and_left (is_alike d k) (begins_with cs ks) h)) ∙ is
begun_kind (d ∷ cs) (k ∷ ks) (suc c) kind h is = begun_kind cs ks c kind (and_right (is_alike d k) (begins_with cs ks) h) is

dropped_get : (first : ℕ) (cs : List ComponentKind) (c : ℕ) → slice_get (drop first cs) c ≡ slice_get cs (first + c)
dropped_get zero cs c = let same : c ≡ 0 + c = omega arith in ap (slice_get cs) same
dropped_get (suc first) [] c = refl
dropped_get (suc first) (d ∷ cs) c = let same : suc (first + c) ≡ suc first + c = omega arith in dropped_get first cs c ∙ ap (slice_get (d ∷ cs)) same

none_dropped : (i j : ℕ) → Path (List ComponentKind) (drop i []) (drop j [])
none_dropped zero zero = refl
none_dropped zero (suc j) = refl
none_dropped (suc i) zero = refl
none_dropped (suc i) (suc j) = refl

dropped_twice : (first i : ℕ) (cs : List ComponentKind) → drop i (drop first cs) ≡ drop (first + i) cs
dropped_twice zero i cs = let same : i ≡ 0 + i = omega arith in ap (λ (n : ℕ). drop n cs) same
dropped_twice (suc first) i [] = none_dropped i (suc first + i)
dropped_twice (suc first) i (d ∷ cs) = let same : suc (first + i) ≡ suc first + i = omega arith in dropped_twice first i cs ∙ ap (λ (n : ℕ). drop n (d ∷ cs)) same

alike_all : (c k r : ComponentKind) → is_alike c k ≡ true → is_alike k r ≡ true → is_alike c r ≡ true
alike_all (component.Integer initial) (component.Integer other) r h g = g
alike_all (component.Integer initial) (component.Boolean other) r h g = absurd (cc)
alike_all (component.Integer initial) (component.Access access) r h g = absurd (cc)
alike_all (component.Boolean initial) (component.Integer other) r h g = absurd (cc)
alike_all (component.Boolean initial) (component.Boolean other) r h g = g
alike_all (component.Boolean initial) (component.Access access) r h g = absurd (cc)
alike_all (component.Access access) (component.Integer other) r h g = absurd (cc)
alike_all (component.Access access) (component.Boolean other) r h g = absurd (cc)
alike_all (component.Access access) (component.Access other) r h g =
    subst (λ (i : ℕ). is_alike (component.Access (record { 0 = i })) r ≡ true) (sym (eqb-true access.0 other.0 h)) g

begun_all : (cs ks rs : List ComponentKind) → begins_with cs ks ≡ true → begins_with ks rs ≡ true → begins_with cs rs ≡ true
begun_all cs ks [] h g = refl
begun_all cs [] (r ∷ rs) h g = absurd (cc)
begun_all [] (k ∷ ks) (r ∷ rs) h g = absurd (cc)
begun_all (c ∷ cs) (k ∷ ks) (r ∷ rs) h g =
    both (is_alike c r) (begins_with cs rs)
    (alike_all c k r (and_left (is_alike c k) (begins_with cs ks) h) (and_left (is_alike k r) (begins_with ks rs) g))
    (begun_all cs ks rs (and_right (is_alike c k) (begins_with cs ks) h) (and_right (is_alike k r) (begins_with ks rs) g))

begun_dropped : (i : ℕ) (cs ks rs : List ComponentKind) → begins_with cs ks ≡ true → begins_with (drop i ks) rs ≡ true → begins_with (drop i cs) rs ≡ true
begun_dropped zero cs ks rs h g = begun_all cs ks rs h g
begun_dropped (suc i) cs [] [] h g = refl
begun_dropped (suc i) cs [] (r ∷ rs) h g = absurd (cc)
begun_dropped (suc i) [] (k ∷ ks) rs h g = absurd (cc)
begun_dropped (suc i) (c ∷ cs) (k ∷ ks) rs h g = begun_dropped i cs ks rs (and_right (is_alike c k) (begins_with cs ks) h) g

-- What is selected in a record that lies in an object.
pub inside_kind : (o ks : Option (List ComponentKind)) (first c : ℕ) (kind : VariableKind) → has_record_at o first ks ≡ true → kind_among ks c ≡ Some kind → kind_among o (first + c) ≡ Some kind
inside_kind o None first c kind h is = absurd (cc)
inside_kind None (Some ks) first c kind h is = absurd (cc)
inside_kind (Some cs) (Some ks) first c kind h is =
    ap component_kind (sym (dropped_get first cs c)) ∙ begun_kind (drop first cs) ks c kind h is

-- A record that lies in one that lies in an object.
pub inside_record : (o ks rs : Option (List ComponentKind)) (first i : ℕ) → has_record_at o first ks ≡ true → has_record_at ks i rs ≡ true → has_record_at o (first + i) rs ≡ true
inside_record o None rs first i h g = absurd (cc)
inside_record None (Some ks) rs first i h g = absurd (cc)
inside_record (Some cs) (Some ks) None first i h g = absurd (cc)
inside_record (Some cs) (Some ks) (Some rs) first i h g =
    subst (λ (xs : List ComponentKind). begins_with xs rs ≡ true) (dropped_twice first i cs) (begun_dropped i (drop first cs) ks rs h g)

-- Parts of parts of an object are parts of it (7.6).
parts_from : (count part within : ℕ) → has_parts_from count part within ≡ true → (count ≡ 0) ⊎ (part + count ≤ within)
parts_from count part within is = grind (arith, common_steps, is)

inside_parts : (count middle all i j : ℕ) → has_parts_from middle i all ≡ true → has_parts_from count j middle ≡ true → has_parts_from count (i + j) all ≡ true
inside_parts count middle all i j outer inner =
    let out = parts_from middle i all outer in
    let within = parts_from count j middle inner in
    grind (arith, common_steps, out, within)

some_around : (count part within : ℕ) → 0 < count → has_parts_from count part within ≡ true → 0 < within
some_around count part within some is = let have = parts_from count part within is in grind (arith, common_steps, some, have)

inside_lies :
    (types : List TypeForm) (object middle t : Option ℕ) (first first_inside part part_inside : ℕ) → PartsLie types object middle first part
    → PartsLie types middle t first_inside part_inside → PartsLie types object t (first + first_inside) (part + part_inside)
inside_lies types object middle t first first_inside part part_inside outer inner = (
  inside_parts (parts_named types t) (parts_named types middle) (parts_named types object) part part_inside outer.0 inner.0,
  λ some. walks_to types object middle t first part first_inside part_inside
      (outer.1 (some_around (parts_named types t) part_inside (parts_named types middle) some inner.0)) (inner.1 some),
  part_of_part types object middle t outer.2 inner.2,
)

-- So they are among the object's, where there are some.
pub parts_behind : (count part within : ℕ) → 0 < count → has_parts_from count part within ≡ true → part + count ≤ within
parts_behind count part within some is = let have = parts_from count part within is in grind (arith, common_steps, some, have)

-- What is found where a path begins whose variable holds a value of this kind: what it is followed from, which is no reference, and what is selected behind
-- it, and the records that lie there, as the variable's own kind says.
pub record Begins (types : List TypeForm) (cells : Cells) (from : VariableKind) (v : Value) : Type 0 where
  pub root : VariableKind
  pub plain : is_record_kind root ≡ false
  pub has : HasKind types cells root (whole v)
  pub selects : (c : ℕ) (kind : VariableKind) → selected_kind types (Some from) c ≡ Some kind → selected_kind types (Some root) (inside v c) ≡ Some kind
  pub records :
      (i j : ℕ) (u : Option ℕ) (rs : Option (List ComponentKind)) → has_record_at (object_components types (access_of (Some from))) i rs ≡ true
      → PartsLie types (object_named types (access_of (Some from))) u i j
      → (access : TypeNo) × (root ≡ variable.Access access) × (has_record_at (reached_components types access.0) (inside v i) rs ≡ true)
      × PartsLie types (object_named types (Some access.0)) u (inside v i) (part_inside v j)

begins_integer : (types : List TypeForm) (cells : Cells) (v : Value) → HasKind types cells variable.Integer v → Begins types cells variable.Integer v
begins_integer types cells Null h = absurd h
begins_integer types cells (Names o) h = absurd h
begins_integer types cells (Scalar held) h = record { root = variable.Integer; plain = refl; has = h; selects = λ c kind is. is; records = λ i j u rs is parts. absurd (cc) }
begins_integer types cells (Part o place) h = absurd h

begins_boolean : (types : List TypeForm) (cells : Cells) (v : Value) → HasKind types cells variable.Boolean v → Begins types cells variable.Boolean v
begins_boolean types cells Null h = absurd h
begins_boolean types cells (Names o) h = absurd h
begins_boolean types cells (Scalar held) h = record { root = variable.Boolean; plain = refl; has = h; selects = λ c kind is. is; records = λ i j u rs is parts. absurd (cc) }
begins_boolean types cells (Part o place) h = absurd h

begins_access : (types : List TypeForm) (cells : Cells) (access : TypeNo) (v : Value) → HasKind types cells (variable.Access access) v → Begins types cells (variable.Access access) v
begins_access types cells access Null h = record { root = variable.Access access; plain = refl; has = h; selects = λ c kind is. is; records = λ i j u rs is parts. (access, refl, is, parts) }
begins_access types cells access (Names o) h = record { root = variable.Access access; plain = refl; has = h; selects = λ c kind is. is; records = λ i j u rs is parts. (access, refl, is, parts) }
begins_access types cells access (Scalar held) h = absurd h
begins_access types cells access (Part o place) h = absurd h

begins_object : (types : List TypeForm) (cells : Cells) (object : TypeNo) (v : Value) → HasKind types cells (variable.Record object) v → Begins types cells (variable.Record object) v
begins_object types cells object Null h = record { root = variable.Access object; plain = refl; has = h; selects = λ c kind is. is; records = λ i j u rs is parts. (object, refl, is, parts) }
begins_object types cells object (Names o) h = record { root = variable.Access object; plain = refl; has = h; selects = λ c kind is. is; records = λ i j u rs is parts. (object, refl, is, parts) }
begins_object types cells object (Scalar held) h = absurd h
begins_object types cells object (Part o place) h =
    let access : TypeNo = record { 0 = h.0.access } in
    record {
      root = variable.Access access;
      plain = refl;
      has = (h.0, h.1, refl);
      selects = λ c kind is. inside_kind (reached_components types h.0.access) (reached_components types object.0) place.component c kind h.2 is;
      records = λ i j u rs is parts. (
        access,
        refl,
        inside_record (reached_components types h.0.access) (reached_components types object.0) rs place.component i h.2 is,
        inside_lies types (object_named types (Some h.0.access)) (object_named types (Some object.0)) u place.component i place.part j h.3 parts,
      );
    }

pub begins : (types : List TypeForm) (cells : Cells) (from : VariableKind) (v : Value) → HasKind types cells from v → Begins types cells from v
begins types cells variable.Integer v h = begins_integer types cells v h
begins types cells variable.Boolean v h = begins_boolean types cells v h
begins types cells (variable.Access access) v h = begins_access types cells access v h
begins types cells (variable.Record object) v h = begins_object types cells object v h

-- A value of another kind than a record's stands for itself.
pub stands_itself : (types : List TypeForm) (cells : Cells) (from : VariableKind) (v : Value) → is_record_kind from ≡ false → HasKind types cells from v → whole v ≡ v
stands_itself types cells from Null other h = refl
stands_itself types cells from (Names o) other h = refl
stands_itself types cells from (Scalar held) other h = refl
stands_itself types cells variable.Integer (Part o place) other h = absurd h
stands_itself types cells variable.Boolean (Part o place) other h = absurd h
stands_itself types cells (variable.Access access) (Part o place) other h = absurd h
stands_itself types cells (variable.Record object) (Part o place) other h = absurd (cc)
