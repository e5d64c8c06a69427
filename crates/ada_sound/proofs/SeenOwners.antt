-- Copies of records whose components stand in order (3.8): the Adjusts of the controlled parts of a record see to all components of access types that it has (7.6), where
-- a copy leaves no two owners.

use Rattle.std.proofs.Common.{◌≡◌, ℕ, zero, suc, ◌+◌, ◌<◌, ◌≤◌, Bool, true, false, ◌&&◌, ◌||◌, not, List, [], ◌∷◌, length, Option, Some, None, arith, refl, sym, ap, ◌∙◌, subst}
use Rattle.std.specs.List.{Contains, list_all, list_any, slice_get}
use Rattle.std.proofs.lemmas.Bool.{and_parts}
use Rattle.ada_program.specs.declared.program.ComponentKind.{ComponentKind}
use Rattle.ada_program.specs.declared.program.ComponentKind.TheVariants as component
use Rattle.ada_program.specs.declared.program.Finalization.{Finalization}
use Rattle.ada_program.specs.declared.program.PartKind.{PartKind}
use Rattle.ada_program.specs.declared.program.PartKind.TheVariants as part
use Rattle.ada_program.specs.declared.program.TypeNo.{TypeNo}
use Rattle.ada_program.specs.declared.program.VariableKind.TheVariants as variable
use Rattle.ada_program.specs.Controlled.{number_in}
use Rattle.ada_program.specs.ProgramForm.{PartForm, TypeForm, record_of, access_to, object_of}
use Rattle.ada_program.specs.Walks.{Walks, ends, into}
use Rattle.ada_program.specs.WellFormed.{finalization_in, finalization_of, count_said, part_count, parts_within, is_inherited, held_kind, component_kind, kind_among, components_in, record_components, has_record_at, components_within, component_lies, components_lie, is_parent, type_fits}
use Rattle.ada_parts.specs.declared.tasks.Direction.TheVariants.{PartsFirst}
use Rattle.ada_parts.specs.Task.{opened}
use Rattle.ada_typed.proofs.Parts.{shows_parent, shown_parts, shown_shapes}
use Rattle.ada_typed.proofs.Records.{inside_kind, inside_record}
use Rattle.ada_program.specs.Parts.{is_record_among, has_component_among}
use Rattle.ada_flow.specs.Flow.{owns_among, is_owning_part, is_owning_record, leaves_copies, leaves_own, declares_owner, leaves_within}
use Rattle.ada_flow.specs.Tracking.{access_numbers}
use Rattle.ada_quiet.specs.InUse.{size_of_part, stand_in_a_row, adjusts_itself, is_copied_in_order}
use Rattle.ada_sound.proofs.CopiedOwners.{CopiesWell, IsDeclaredWithin, AreDeclaredWithin, AreCovered, SeesToAll, SeesToOwners, declared_owners, owners_left}
use Rattle.ada_sound.proofs.CoveredOwners.{covered_plain}
use Rattle.ada_sound.proofs.OnlyParts.{IsControlled, passed_at, counted_at, in_order, numbered_counts, controlled_counts, walked_counts}
use Rattle.ada_sound.proofs.OnlyPlaces.{shown_as_controlled}
use Rattle.ada_sound.proofs.OnlyRows.{AreCopiedInOrder, some_passes, or_false, or_true, none_passes, numbered_access, kind_owns, record_owns, kind_below, kind_within, begins_self, stands_in}

-- A declared component is the parent part.
pub parent_shown : (ps : List PartForm) → list_any (λ (q : PartForm). is_parent q.kind) ps ≡ shows_parent ps
parent_shown [] = refl
parent_shown (q ∷ ps) = rw (parent_shown ps) refl

-- What has a number in a list is among its elements.
pub contains_at : {X : Type 0} (xs : List X) (i : ℕ) (x : X) → slice_get xs i ≡ Some x → Contains xs x
contains_at [] i x at = absurd (cc at)
contains_at (y ∷ ys) zero x at = let one : y ≡ x = cc at in (0, omega arith, one)
contains_at (y ∷ ys) (suc i) x at = let found = contains_at ys i x at in let less = found.1 in (suc found.0, omega (arith, less), found.2)

-- Where one element passes a test, some does.
any_passes : {X : Type 0} (test : X → Bool) (xs : List X) (i : ℕ) (x : X) → slice_get xs i ≡ Some x → test x ≡ true → list_any test xs ≡ true
any_passes test [] i x at does = absurd (cc at)
any_passes {X = X} test (y ∷ ys) zero x at does =
    let one : y ≡ x = cc at in
    subst (λ (b : Bool). (b || list_any test ys) ≡ true) (sym (subst (λ (z : X). test z ≡ true) (sym one) does)) refl
any_passes test (y ∷ ys) (suc i) x at does = go (test y) (any_passes test ys i x at does)
  where
    go : (b : Bool) → list_any test ys ≡ true → (b || list_any test ys) ≡ true
    go true later = refl
    go false later = later

-- What holds a value of an access type is a component of that type.
access_at : (o : Option ComponentKind) (access : TypeNo) → component_kind o ≡ Some (variable.Access access) → o ≡ Some (component.Access access)
access_at None access is = absurd (cc is)
access_at (Some (component.Integer initial)) access is = absurd (cc is)
access_at (Some (component.Boolean initial)) access is = absurd (cc is)
access_at (Some (component.Access own)) access is =
    let one : own ≡ access = cc is in
    ap (λ (t : TypeNo). Some (component.Access t)) one

-- So there are components, and this is one of them.
access_there : (o : Option (List ComponentKind)) (c : ℕ) (access : TypeNo) → kind_among o c ≡ Some (variable.Access access)
    → (kinds : List ComponentKind) × (o ≡ Some kinds) × (slice_get kinds c ≡ Some (component.Access access))
access_there None c access is = absurd (cc is)
access_there (Some kinds) c access is = (kinds, refl, access_at (slice_get kinds c) access is)

module _ (types : List TypeForm) (fit : list_all (type_fits types) types ≡ true) (lie : list_all (components_lie types) types ≡ true) where
  -- The elementary components of a controlled record that lies in another are among those of the other.
  pub record_lies :
      (t first k u : ℕ) → IsControlled types u → Walks types t first k u → has_record_at (record_components types t) first (record_components types u) ≡ true
  record_lies t _ _ _ c ends =
      rw (ap (λ (o : Option TypeForm). has_record_at (components_in o) 0 (components_in o)) c.declared) (begins_self c.components)
  record_lies t _ _ u c (into i first k _ m name ps components f p v at there is known walks) =
      let form = record_of name ps components (Some f) in
      let all = passed_at (components_lie types) types t form lie at in
      let lies : component_lies types components p ≡ true = passed_at (component_lies types components) ps i p all there in
      let here : has_record_at (Some components) p.first (record_components types v.0) ≡ true =
      subst (λ (kind : PartKind). has_record_at (Some components) p.first (components_within types kind) ≡ true) is lies in
      let own : has_record_at (record_components types t) p.first (record_components types v.0) ≡ true =
      subst (λ (o : Option TypeForm). has_record_at (components_in o) p.first (record_components types v.0) ≡ true) (sym at) here in
      inside_record (record_components types t) (record_components types v.0) (record_components types u) p.first first own (record_lies v.0 first k u c walks)

  -- A declared component of an access type is an elementary component of its record.
  owner_lies :
      (components : List ComponentKind) (p : PartForm) → component_lies types components p ≡ true → is_owning_part p.kind ≡ true
      → (access : TypeNo) × (kind_among (Some components) (p.first + 0) ≡ Some (variable.Access access))
  owner_lies components p lies owns = by p.kind lies owns
    where
      by : (kind : PartKind) → has_record_at (Some components) p.first (components_within types kind) ≡ true → is_owning_part kind ≡ true
          → (access : TypeNo) × (kind_among (Some components) (p.first + 0) ≡ Some (variable.Access access))
      by (part.Elementary (component.Integer initial)) lies owns = absurd (cc owns)
      by (part.Elementary (component.Boolean initial)) lies owns = absurd (cc owns)
      by (part.Elementary (component.Access access)) lies owns =
          (access, inside_kind (Some components) (Some (component.Access access ∷ [])) p.first 0 (variable.Access access) lies refl)
      by (part.Record t) lies owns = absurd (cc owns)
      by part.Parent lies owns = absurd (cc owns)

  -- So a record owns something in which a controlled record lies that declares such a component.
  declares_owns :
      (t first k r : ℕ) (c : IsControlled types r) → Walks types t first k r → list_any (λ d. is_owning_part d.kind) c.parts ≡ true
      → is_owning_record types t ≡ true
  declares_owns t first k r c walks some =
      let found = some_passes (λ d. is_owning_part d.kind) c.parts some in
      let form = record_of c.name c.parts c.components (Some c.finalization) in
      let all = passed_at (components_lie types) types r form lie c.declared in
      let own = owner_lies c.components found.1 (passed_at (component_lies types c.components) c.parts found.0 found.1 all found.2) found.3 in
      let held : kind_among (record_components types r) (found.1.first + 0) ≡ Some (variable.Access own.0) =
      ap (λ (o : Option TypeForm). kind_among (components_in o) (found.1.first + 0)) c.declared ∙ own.1 in
      record_owns (record_components types t) (first + (found.1.first + 0)) own.0
      (inside_kind (record_components types t) (record_components types r) first (found.1.first + 0) (variable.Access own.0) (record_lies t first k r c walks) held)

  -- Of a record that owns nothing, all is seen to.
  pub plain_seen : (t : ℕ) → is_owning_record types t ≡ false → SeesToAll types t
  plain_seen t plain = record {
    sees = λ r first k c walks some. absurd (cc (declares_owns t first k r c walks some, plain));
    owned = λ kinds c access are at.
        absurd (cc (record_owns (record_components types t) c access (ap (λ (o : Option (List ComponentKind)). kind_among o c) are ∙ ap component_kind at), plain));
    counts = λ of is. numbered_counts types fit t of is;
    covers = λ access of first part is walks kinds are.
        covered_plain (owners_left types access (opened (shown_shapes types) PartsFirst of part)) first kinds (ap owns_among (sym are) ∙ plain);
  }

module _ (types : List TypeForm) (a : AreCopiedInOrder types) (covered : (t : ℕ) → AreDeclaredWithin types t → AreCovered types t) where
  -- A component of an access type is declared so in its record, or is one of a record that is declared there.
  record DeclaredIn (ps : List PartForm) (c : ℕ) (access : TypeNo) : Type 0 where
    number : ℕ
    p : PartForm
    e : ℕ
    at : slice_get ps number ≡ Some p
    behind : c ≡ p.first + e
    within : e < size_of_part types p.kind
    kind : kind_among (components_within types p.kind) e ≡ Some (variable.Access access)

  -- What the order of components says of a record type.
  in_row :
      (t : ℕ) (name : List ℕ) (ps : List PartForm) (components : List ComponentKind) (f : Option Finalization)
      → slice_get types t ≡ Some (record_of name ps components f)
      → (stand_in_a_row types 0 ps (length components) ≡ true) × (adjusts_itself ps f ≡ true)
  in_row t name ps components f at =
      and_parts (stand_in_a_row types 0 ps (length components)) (adjusts_itself ps f)
      (passed_at (is_copied_in_order types) types t (record_of name ps components f) a.copied_in_order at)

  -- It is one of the two, since components stand in a row.
  declared_in :
      (t : ℕ) (name : List ℕ) (ps : List PartForm) (components : List ComponentKind) (f : Option Finalization) (c : ℕ) (access : TypeNo)
      → slice_get types t ≡ Some (record_of name ps components f) → kind_among (record_components types t) c ≡ Some (variable.Access access)
      → DeclaredIn ps c access
  declared_in t name ps components f c access at is =
      let form = record_of name ps components f in
      let row = (in_row t name ps components f at).0 in
      let held : component_kind (slice_get components c) ≡ Some (variable.Access access) =
      subst (λ (o : Option TypeForm). kind_among (components_in o) c ≡ Some (variable.Access access)) at is in
      let s = stands_in types 0 ps (length components) c row (omega arith) (kind_below components c (variable.Access access) held) in
      let lies = passed_at (component_lies types components) ps s.number s.p (passed_at (components_lie types) types t form a.components_lie at) s.at in
      record {
        number = s.number;
        p = s.p;
        e = s.e;
        at = s.at;
        behind = s.behind;
        within = s.within;
        kind = kind_within components (components_within types s.p.kind) s.p.first s.e (variable.Access access) lies s.within
            (subst (λ (n : ℕ). component_kind (slice_get components n) ≡ Some (variable.Access access)) s.behind held);
      }

  -- The parts of a declared record are among those of its record.
  parts_below :
      (t : ℕ) (name : List ℕ) (ps : List PartForm) (components : List ComponentKind) (f : Option Finalization) (i : ℕ) (p : PartForm) (v : TypeNo)
      → slice_get types t ≡ Some (record_of name ps components f) → slice_get ps i ≡ Some p → p.kind ≡ part.Record v
      → p.part + part_count types v.0 ≤ part_count types t
  parts_below t name ps components f i p v at there is =
      let last = (counted_at types (count_said f) 0 ps i p (in_order types a.types_fit t name ps components f at) there).1 in
      let within : parts_within types p.kind ≡ part_count types v.0 = ap (parts_within types) is in
      let count : part_count types t ≡ count_said f = ap (λ (o : Option TypeForm). count_said (finalization_in o)) at in
      omega (arith, last, within, count)

  -- What has controlled parts has a number.
  number_known : (v : ℕ) → 0 < part_count types v → (m : ℕ) × (number_in (finalization_of types v) ≡ Some m)
  number_known v some = go (finalization_of types v) some
    where
      go : (o : Option Finalization) → 0 < count_said o → (m : ℕ) × (number_in o ≡ Some m)
      go None some = absurd (omega (arith, some))
      go (Some f) some = (f.number.0, refl)

  -- What lies in a declared record lies in its record.
  step_into :
      (t : ℕ) (name : List ℕ) (ps : List PartForm) (components : List ComponentKind) (f : Option Finalization) (i : ℕ) (p : PartForm) (v : TypeNo) (first k r : ℕ)
      → slice_get types t ≡ Some (record_of name ps components f) → slice_get ps i ≡ Some p → p.kind ≡ part.Record v → 0 < part_count types v.0
      → Walks types v.0 first k r → Walks types t (p.first + first) (p.part + k) r
  step_into t name ps components None i p v first k r at there is some walks =
      let within = parts_below t name ps components None i p v at there is in
      let count : part_count types t ≡ 0 = ap (λ (o : Option TypeForm). count_said (finalization_in o)) at in
      absurd (omega (arith, within, count, some))
  step_into t name ps components (Some f) i p v first k r at there is some walks =
      let known = number_known v.0 some in
      into i first k r known.0 name ps components f p v at there is known.1 walks

  -- What is known of the records that are declared in one.
  abbrev Further : (n : ℕ) → Type 0
  Further n = (v : ℕ) → leaves_within types n v ≡ false → SeesToAll types v

  -- All is seen to of a declared record.
  inner_seen :
      (n t : ℕ) (name : List ℕ) (ps : List PartForm) (components : List ComponentKind) (f : Option Finalization) (i : ℕ) (p : PartForm) (v : TypeNo) → Further n
      → has_component_among (leaves_within types n) (slice_get types t) ≡ false → slice_get types t ≡ Some (record_of name ps components f)
      → slice_get ps i ≡ Some p → p.kind ≡ part.Record v → SeesToAll types v.0
  inner_seen n t name ps components f i p v further none at there is =
      let among : list_any (λ c. is_record_among (leaves_within types n) c.kind) ps ≡ false = ap (has_component_among (leaves_within types n)) (sym at) ∙ none in
      let leaves = none_passes (λ c. is_record_among (leaves_within types n) c.kind) ps i p among there in
      further v.0 (ap (is_record_among (leaves_within types n)) (sym is) ∙ leaves)

  -- The Adjust of each controlled record that lies in it is overridden, where that declares components of access types.
  sees_each :
      (n t first k r : ℕ) → Further n → leaves_own (slice_get types t) ≡ false → has_component_among (leaves_within types n) (slice_get types t) ≡ false
      → (c : IsControlled types r) → Walks types t first k r → list_any (λ d. is_owning_part d.kind) c.parts ≡ true
      → SeesToOwners types r c.finalization.number.0
  sees_each n t _ _ _ further own none c ends some =
      let shown = shown_as_controlled types a.types_fit t c in
      let said : (list_any (λ d. is_owning_part d.kind) c.parts && is_inherited c.finalization.operations.adjust) ≡ false = ap leaves_own (sym c.declared) ∙ own in
      record {
        name = c.name;
        parts = c.parts;
        components = c.components;
        finalization = c.finalization;
        at = c.declared;
        numbered = shown.0;
        controlled = shown.1;
        overridden = subst (λ (b : Bool). (b && is_inherited c.finalization.operations.adjust) ≡ false) some said;
        declares = some;
      }
  sees_each n t _ _ r further own none c (into i first k _ m name ps components f p v at there is known walks) some =
      (inner_seen n t name ps components (Some f) i p v further none at there is).sees r first k c walks some

  -- Where such a component is declared in the record itself, this is controlled.
  owned_here :
      (t : ℕ) (name : List ℕ) (ps : List PartForm) (components : List ComponentKind) (f : Option Finalization) (i : ℕ) (p : PartForm) (x : ℕ)
      → slice_get types t ≡ Some (record_of name ps components f) → leaves_own (slice_get types t) ≡ false → slice_get ps i ≡ Some p
      → is_owning_part p.kind ≡ true → x ≡ p.first → IsDeclaredWithin types t x
  owned_here t name ps components f i p x at own there owns place =
      by f at (subst (λ (b : Bool). (b && leaves_copies f) ≡ false) (any_passes (λ c. is_owning_part c.kind) ps i p there owns) (ap leaves_own (sym at) ∙ own))
    where
      by : (g : Option Finalization) → slice_get types t ≡ Some (record_of name ps components g) → leaves_copies g ≡ false → IsDeclaredWithin types t x
      by None at' copies = absurd (cc copies)
      by (Some g) at' copies =
          let itself = (in_row t name ps components (Some g) at').1 in
          let parent : shows_parent ps ≡ true =
          sym (parent_shown ps) ∙ or_true (is_inherited g.operations.adjust) (list_any (λ (q : PartForm). is_parent q.kind) ps) itself copies in
          let c : IsControlled types t = record { name = name; parts = ps; components = components; finalization = g; declared = at'; own = parent } in
          let declared : access_numbers ps ≡ declared_owners types t = ap (λ (o : Option TypeForm). access_numbers (shown_parts o)) (sym at') in
          let found = numbered_access ps i p there owns in (
            t,
            0,
            0,
            c,
            ends,
            (p.first, subst (λ (ns : List ℕ). Contains ns p.first) declared (contains_at (access_numbers ps) found.0 p.first found.1), omega (arith, place)),
          )

  -- Where it is one of a declared record, it is declared in one that lies in that.
  owned_within :
      (t : ℕ) (name : List ℕ) (ps : List PartForm) (components : List ComponentKind) (f : Option Finalization) (i : ℕ) (p : PartForm) (v : TypeNo) (x y : ℕ)
      → slice_get types t ≡ Some (record_of name ps components f) → slice_get ps i ≡ Some p → p.kind ≡ part.Record v → x ≡ p.first + y → IsDeclaredWithin types v.0 y → IsDeclaredWithin types t x
  owned_within t name ps components f i p v x y at there is place (r, first, k, c, walks, inner) =
      let some = controlled_counts types a.types_fit r c in
      let inside = walked_counts types a.types_fit v.0 first k r walks in (
        r,
        p.first + first,
        p.part + k,
        c,
        step_into t name ps components f i p v first k r at there is (omega (arith, some, inside)) walks,
        (inner.0, inner.1, (let behind = inner.2 in omega (arith, place, behind))),
      )

  -- So it is in any case.
  owned_each :
      (n t : ℕ) (name : List ℕ) (ps : List PartForm) (components : List ComponentKind) (f : Option Finalization) (x : ℕ) (access : TypeNo) → Further n
      → leaves_own (slice_get types t) ≡ false → has_component_among (leaves_within types n) (slice_get types t) ≡ false
      → slice_get types t ≡ Some (record_of name ps components f) → DeclaredIn ps x access → IsDeclaredWithin types t x
  owned_each n t name ps components f x access further own none at d = by d.p.kind refl
    where
      place : x ≡ d.p.first + d.e
      place = d.behind

      less : d.e < size_of_part types d.p.kind
      less = d.within

      by : (kind : PartKind) → d.p.kind ≡ kind → IsDeclaredWithin types t x
      by (part.Elementary kind) is =
          let size : size_of_part types d.p.kind ≡ 1 = ap (size_of_part types) is in
          let first : d.e ≡ 0 = omega (arith, size, less) in
          let held : Some (held_kind kind) ≡ Some (variable.Access access) =
          subst (λ (e : ℕ). kind_among (Some (kind ∷ [])) e ≡ Some (variable.Access access)) first
          (subst (λ (k : PartKind). kind_among (components_within types k) d.e ≡ Some (variable.Access access)) is d.kind) in
          let owns : is_owning_part d.p.kind ≡ true = ap is_owning_part is ∙ kind_owns kind access (cc held) in
          owned_here t name ps components f d.number d.p x at own d.at owns (omega (arith, place, first))
      by (part.Record v) is =
          let held = subst (λ (k : PartKind). kind_among (components_within types k) d.e ≡ Some (variable.Access access)) is d.kind in
          let found = access_there (record_components types v.0) d.e access held in
          let seen = inner_seen n t name ps components f d.number d.p v further none at d.at is in
          owned_within t name ps components f d.number d.p v x d.e at d.at is place (seen.owned found.0 d.e access found.1 found.2)
      by part.Parent is =
          let size : size_of_part types d.p.kind ≡ 0 = ap (size_of_part types) is in
          absurd (omega (arith, size, less))

  -- All is seen to of a record that owns something, where all is of the records that are declared in it.
  seen_at :
      (n t : ℕ) (o : Option TypeForm) → slice_get types t ≡ o → is_owning_record types t ≡ true → Further n → leaves_within types (suc n) t ≡ false
      → SeesToAll types t
  seen_at n t None at owns further leaves =
      let none : is_owning_record types t ≡ false = ap (λ (o : Option TypeForm). owns_among (components_in o)) at in absurd (cc (none, owns))
  seen_at n t (Some (access_to name designated pool)) at owns further leaves =
      let none : is_owning_record types t ≡ false = ap (λ (o : Option TypeForm). owns_among (components_in o)) at in absurd (cc (none, owns))
  seen_at n t (Some (object_of record_type)) at owns further leaves =
      let none : is_owning_record types t ≡ false = ap (λ (o : Option TypeForm). owns_among (components_in o)) at in absurd (cc (none, owns))
  seen_at n t (Some (record_of name ps components f)) at owns further leaves =
      let inner = has_component_among (leaves_within types n) (slice_get types t) in
      let declares = not (declares_owner types (slice_get types t)) in
      let deep = leaves_own (slice_get types t) || (declares || inner) in
      let rest = subst (λ (b : Bool). (b && deep) ≡ false) owns leaves in
      let halves = or_false (leaves_own (slice_get types t)) (declares || inner) rest in
      let none = (or_false declares inner halves.1).1 in
      let owned : AreDeclaredWithin types t = λ kinds x access are held.
      owned_each n t name ps components f x access further halves.0 none at
      (declared_in t name ps components f x access at (ap (λ (o : Option (List ComponentKind)). kind_among o x) are ∙ ap component_kind held)) in
      record {
        sees = λ r first k c walks some. sees_each n t first k r further halves.0 none c walks some;
        owned = owned;
        counts = λ of is. numbered_counts types a.types_fit t of is;
        covers = covered t owned;
      }

  -- So it is whether it owns something or not.
  seen_by : (n t : ℕ) → Further n → leaves_within types (suc n) t ≡ false → (b : Bool) → is_owning_record types t ≡ b → SeesToAll types t
  seen_by n t further leaves true owns = seen_at n t (slice_get types t) refl owns further leaves
  seen_by n t further leaves false plain = plain_seen types a.types_fit a.components_lie t plain

  -- So it is at any depth.
  seen_deep : (n t : ℕ) → leaves_within types n t ≡ false → SeesToAll types t
  seen_deep zero t leaves = plain_seen types a.types_fit a.components_lie t leaves
  seen_deep (suc n) t leaves = seen_by n t (λ v less. seen_deep n v less) leaves (is_owning_record types t) refl

  -- Copies that leave no two owners are seen to.
  pub copies_well : CopiesWell types
  copies_well t leaves free = seen_deep (length types) t leaves
