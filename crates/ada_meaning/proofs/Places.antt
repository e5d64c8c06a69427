-- Where the controlled parts of objects begin, and whose operations they have.

use Rattle.std.proofs.Common.{◌≡◌, ◌≢◌, ℕ, zero, suc, ◌+◌, ◌<◌, Bool, true, false, ◌==◌, if◌then◌else◌, List, [], ◌∷◌, ◌++◌, length, map, Option, Some, None, refl, sym, ap, ◌∙◌, inl, inr, subst, arith}
use Rattle.std.specs.Prelude.{◌&&◌, ◌||◌, not, nat_lt, count_by, find}
use Rattle.std.specs.List.{list_all, slice_get, flat_map}
use Rattle.std.specs.Option.{option_map}
use Rattle.std.proofs.lemmas.Bool.{eqb-true, ltb-true, ne_eqb}
use Rattle.std.proofs.lemmas.Bool.Decides.{eqb_tells}
use Rattle.std.proofs.lemmas.Grind.{common_steps}
use Rattle.std.proofs.lemmas.List.{length-map}
use Rattle.std.proofs.lemmas.Option.{slice_get-map}
use Rattle.ada_parts.proofs.Facts.{eq_self}
use Rattle.ada_program.specs.declared.program.ComponentKind.{ComponentKind}
use Rattle.ada_program.specs.declared.program.Finalization.{Finalization}
use Rattle.ada_program.specs.declared.program.Part.{Part}
use Rattle.ada_program.specs.declared.program.PartKind.{PartKind}
use Rattle.ada_program.specs.declared.program.PartKind.TheVariants as part
use Rattle.ada_program.specs.declared.program.Program.{Program}
use Rattle.ada_program.specs.declared.program.TypeDefinition.{TypeDefinition}
use Rattle.ada_program.specs.declared.program.TypeDefinition.TheVariants as definition
use Rattle.ada_program.specs.declared.program.TypeNo.{TypeNo}
use Rattle.ada_program.specs.Controlled.{number_in, number_by, number_of, is_number, type_numbered, parts_by, has_parent, is_parent, has_parts, operations_in, operations_by, firsts_in, firsts_from, firsts_of_kind, own_first, firsts_by, firsts_up_to, part_firsts}
use Rattle.ada_program.specs.ProgramForm.{PartForm, TypeForm, record_of, access_to, object_of, part_form, type_form, program_form}
use Rattle.ada_program.specs.WellFormed.{IsWellFormed, finalization_in, finalization_of, count_said, kind_fits, says_parts, is_numbered_alone, part_count, parts_within, is_parent as is_parent_form, is_numbered_below, is_of_earlier, parts_in_order, parent_first, has_number, numbered_types, type_fits}
use Rattle.ada_program.proofs.Firsts.{firsts_length, as_many_firsts}
use Rattle.ada_program.proofs.Shapes.{TypesFit, same_number, same_types, parts_said}
use Rattle.ada_meaning.specs.Places.{Declares, RecordsBeginThemselves, PartsBeginWithComponents, PartsAreCounted, NumbersAreAlone, TypesHaveTheirOperations}

-- Both tests are passed where their conjunction is.
both : (a b : Bool) → (a && b) ≡ true → (a ≡ true) × (b ≡ true)
both true b e = (refl, e)
both false b e = absurd (cc e)

-- The element of a number in two lists, one behind the other.
get_front : {X : Type 0} (xs ys : List X) (i : ℕ) (x : X) → slice_get xs i ≡ Some x → slice_get (xs ++ ys) i ≡ Some x
get_front [] ys i x at = absurd (cc at)
get_front (y ∷ xs) ys zero x at = at
get_front (y ∷ xs) ys (suc i) x at = get_front xs ys i x at

get_behind : {X : Type 0} (xs ys : List X) (i : ℕ) → slice_get (xs ++ ys) (length xs + i) ≡ slice_get ys i
get_behind [] ys i = ap (λ (n : ℕ). slice_get ys n) (omega arith)
get_behind (y ∷ xs) ys i =
    let later : suc (length xs) + i ≡ suc (length xs + i) = omega arith in
    ap (λ (n : ℕ). slice_get (y ∷ xs ++ ys) n) later ∙ get_behind xs ys i

-- Where an element passes a test, some do; and where only one does, it is the one that is found, at one number.
counted : {X : Type 0} (p : X → Bool) (xs : List X) (t : ℕ) (x : X) → slice_get xs t ≡ Some x → p x ≡ true → 0 < count_by p xs
counted p [] t x at does = absurd (cc at)
counted p (y ∷ ys) zero x at does = grind (arith, common_steps)
counted p (y ∷ ys) (suc t) x at does = let more = counted p ys t x at does in grind (arith, common_steps, more)

-- The element that is found is the one that passes, where no other number has one that does.
found_alone :
    {X : Type 0} (p : X → Bool) (xs : List X) (t : ℕ) (x : X) → slice_get xs t ≡ Some x → p x ≡ true
    → ((u : ℕ) (y : X) → slice_get xs u ≡ Some y → p y ≡ true → u ≡ t) → find p xs ≡ Some x
found_alone p [] t x at does alone = absurd (cc at)
found_alone p (y ∷ ys) zero x at does alone = grind (arith, common_steps)
found_alone p (y ∷ ys) (suc t) x at does alone =
    go (p y) refl (found_alone p ys t x at does (λ u z there passes. let same : suc u ≡ suc t = alone (suc u) z there passes in omega (arith, same)))
  where
    go : (b : Bool) → p y ≡ b → find p ys ≡ Some x → find p (y ∷ ys) ≡ Some x
    go true is later = let first : 0 ≡ suc t = alone 0 y refl is in absurd (omega (arith, first))
    go false is later = rw is later

one_number :
    {X : Type 0} (p : X → Bool) (xs : List X) (t u : ℕ) (x y : X) → count_by p xs ≡ 1 → slice_get xs t ≡ Some x → p x ≡ true
    → slice_get xs u ≡ Some y → p y ≡ true → t ≡ u
one_number p [] t u x y one at does there passes = absurd (cc at)
one_number p (z ∷ zs) zero zero x y one at does there passes = refl
one_number p (z ∷ zs) zero (suc u) x y one at does there passes =
    let some = counted p zs u y there passes in
    absurd (grind (arith, common_steps, some))
one_number p (z ∷ zs) (suc t) zero x y one at does there passes =
    let some = counted p zs t x at does in
    absurd (grind (arith, common_steps, some))
one_number p (z ∷ zs) (suc t) (suc u) x y one at does there passes =
    let some = counted p zs t x at does in
    let again = one_number p zs t u x y in
    grind (arith, common_steps, some, again)

all_passed : {X : Type 0} (p : X → Bool) (xs : List X) (t : ℕ) (x : X) → list_all p xs ≡ true → slice_get xs t ≡ Some x → p x ≡ true
all_passed p [] t x all at = absurd (cc at)
all_passed p (y ∷ ys) zero x all at = grind (arith, common_steps)
all_passed p (y ∷ ys) (suc t) x all at = all_passed p ys t x (both (p y) (list_all p ys) all).1 at

-- A number is told by its test.
is_number_so : (n : ℕ) (number : Option ℕ) → is_number n number ≡ true → number ≡ Some n
is_number_so n None is = absurd (cc is)
is_number_so n (Some m) is = ap (λ (k : ℕ). Some k) (eqb-true m n is)

-- A record type as the program keeps it.
record Stands (types : List TypeDefinition) (t : ℕ) (ps : List PartForm) (f : Finalization) : Type 0 where
  d : TypeDefinition
  qs : List Part
  at : slice_get types t ≡ Some d
  lists : parts_by (Some d) ≡ qs
  forms : ps ≡ map part_form qs
  numbered : number_by (Some d) ≡ Some f.number.0
  operations : operations_by (Some d) ≡ f.operations

-- The components of a form.
abbrev parts_in : Option TypeForm → List PartForm
parts_in None = []
parts_in (Some (record_of name ps components finalization)) = ps
parts_in (Some other) = []

stands : (types : List TypeDefinition) (t : ℕ) (name : List ℕ) (ps : List PartForm) (components : List ComponentKind) (f : Finalization)
    → slice_get (map type_form types) t ≡ Some (record_of name ps components (Some f)) → Stands types t ps f
stands types t name ps components f declared = go (slice_get types t) refl (sym (slice_get-map type_form types t) ∙ declared)
  where
    go : (o : Option TypeDefinition) → slice_get types t ≡ o → option_map type_form o ≡ Some (record_of name ps components (Some f)) → Stands types t ps f
    go None at is = absurd (cc is)
    go (Some (definition.Record name_kept parts components_kept finalization)) at is = record {
      d = definition.Record name_kept parts components_kept finalization;
      qs = parts.items;
      at = at;
      lists = refl;
      forms = sym (ap parts_in is);
      numbered = ap (λ (o : Option TypeForm). number_in (finalization_in o)) is;
      operations = ap (λ (o : Option TypeForm). operations_in (finalization_in o)) is;
    }
    go (Some (definition.Access name_kept designated pool)) at is = absurd (cc is)
    go (Some (definition.Object record_type)) at is = absurd (cc is)

-- What a well-formed program says of it.
pub record Says (types : List TypeDefinition) (ps : List PartForm) (f : Finalization) : Type 0 where
  pub parents : parent_first ps ≡ true
  pub in_order : parts_in_order (map type_form types) f.parts 0 ps ≡ true
  pub earlier : list_all (λ p. is_of_earlier (map type_form types) f.number.0 p.kind) ps ≡ true
  pub below : f.number.0 < count_by has_parts types
  pub alone : count_by (λ u. has_number f.number.0 (finalization_in (Some u))) (map type_form types) ≡ 1

says_of : (types : List TypeDefinition) (name : List ℕ) (ps : List PartForm) (components : List ComponentKind) (f : Finalization)
    → type_fits (map type_form types) (record_of name ps components (Some f)) ≡ true → Says types ps f
says_of types name ps components f fits = record {
  parents = (both kinds (parent_first ps) saying.0).1;
  in_order = (both (nat_lt 0 f.parts) (parts_in_order forms f.parts 0 ps) ordered.0).1;
  earlier = ordered.1;
  below = subst (λ n. f.number.0 < n) (same_types types) (ltb-true f.number.0 (numbered_types forms) numbered.0);
  alone = eqb-true (count_by (λ u. has_number f.number.0 (finalization_in (Some u))) forms) 1 numbered.1;
}
  where
    forms : List TypeForm
    forms = map type_form types

    kinds : Bool
    kinds = list_all (kind_fits forms) components

    earlier_parts : Bool
    earlier_parts = list_all (λ p. is_of_earlier forms f.number.0 p.kind) ps

    apart : (((kinds && parent_first ps) && says_parts forms (Some f) ps) ≡ true) × (is_numbered_alone forms (Some f) ≡ true)
    apart = both ((kinds && parent_first ps) && says_parts forms (Some f) ps) (is_numbered_alone forms (Some f)) fits

    saying : ((kinds && parent_first ps) ≡ true) × (says_parts forms (Some f) ps ≡ true)
    saying = both (kinds && parent_first ps) (says_parts forms (Some f) ps) apart.0

    ordered : ((nat_lt 0 f.parts && parts_in_order forms f.parts 0 ps) ≡ true) × (earlier_parts ≡ true)
    ordered = both (nat_lt 0 f.parts && parts_in_order forms f.parts 0 ps) earlier_parts saying.1

    numbered : (nat_lt f.number.0 (numbered_types forms) ≡ true) × ((count_by (λ u. has_number f.number.0 (finalization_in (Some u))) forms == 1) ≡ true)
    numbered = both (nat_lt f.number.0 (numbered_types forms)) (count_by (λ u. has_number f.number.0 (finalization_in (Some u))) forms == 1) apart.1

says : (program : Program) (t : ℕ) (ps : List PartForm) (f : Finalization) → IsWellFormed (program_form program) → Declares program t ps f
    → Says program.types.items ps f
says program t ps f well (name, components, declared) =
    let forms = map type_form program.types.items in
    says_of program.types.items name ps components f
    (all_passed (type_fits forms) forms t (record_of name ps components (Some f)) well.types_fit declared)

-- A type with a number is declared, with components.
pub record IsDeclared (program : Program) (t n : ℕ) : Type 0 where
  pub ps : List PartForm
  pub f : Finalization
  pub declares : Declares program t ps f
  pub numbered : f.number.0 ≡ n

pub is_declared : (program : Program) (t n : ℕ) → number_of program.types.items (Some t) ≡ Some n → IsDeclared program t n
is_declared program t n is = go (slice_get (map type_form program.types.items) t) refl (sym (same_number program.types.items t) ∙ is)
  where
    go : (o : Option TypeForm) → slice_get (map type_form program.types.items) t ≡ o → number_in (finalization_in o) ≡ Some n → IsDeclared program t n
    go None at said = absurd (cc said)
    go (Some (record_of name ps components None)) at said = absurd (cc said)
    go (Some (record_of name ps components (Some f))) at said = record { ps = ps; f = f; declares = (name, components, at); numbered = cc said }
    go (Some (access_to name designated pool)) at said = absurd (cc said)
    go (Some (object_of record_type)) at said = absurd (cc said)

pub numbers_are_alone : NumbersAreAlone
numbers_are_alone program t u n well is other =
    let forms = map type_form program.types.items in
    let one = is_declared program t n is in
    let two = is_declared program u n other in
    let known = says program t one.ps one.f well one.declares in
    one_number (λ v. has_number one.f.number.0 (finalization_in (Some v))) forms t u
    (record_of one.declares.0 one.ps one.declares.1 (Some one.f)) (record_of two.declares.0 two.ps two.declares.1 (Some two.f))
    known.alone one.declares.2 (eq_self one.f.number.0) two.declares.2
    (ap (λ (m : ℕ). m == one.f.number.0) (two.numbered ∙ sym one.numbered) ∙ eq_self one.f.number.0)

-- The type of a number is found, where the number is its alone.
found_so :
    (types : List TypeDefinition) (t n : ℕ) (d : TypeDefinition) → slice_get types t ≡ Some d → number_by (Some d) ≡ Some n
    → ((u : ℕ) → number_of types (Some u) ≡ Some n → u ≡ t) → type_numbered types n ≡ Some d
found_so types t n d at numbered alone =
    found_alone (λ e. is_number n (number_by (Some e))) types t d at (ap (is_number n) numbered ∙ eq_self n)
    (λ u e there passes. alone u (ap number_by there ∙ is_number_so n (number_by (Some e)) passes))

pub types_have_their_operations : TypesHaveTheirOperations
types_have_their_operations program t ps f (name, components, declared) alone =
    let s = stands program.types.items t name ps components f declared in
    ap operations_by (found_so program.types.items t f.number.0 s.d s.at s.numbered alone) ∙ s.operations

-- The list of a number among the first ones is that of its type.
firsts_at :
    (types : List TypeDefinition) (count n : ℕ) → n < count
    → firsts_in (firsts_up_to types count) n ≡ firsts_by types (firsts_up_to types n) (parts_by (type_numbered types n))
firsts_at types zero n below = absurd (omega (arith, below))
firsts_at types (suc count) n below = elim (eqb_tells n count) [ inl h ↦ newest h.1 | inr h ↦ older h.1 (λ less. firsts_at types count n less) ]
  where
    own : List ℕ
    own = firsts_by types (firsts_up_to types count) (parts_by (type_numbered types count))

    chosen : (b : Bool) → (n == count) ≡ b → firsts_in (own ∷ firsts_up_to types count) n ≡ (if b then own else firsts_in (firsts_up_to types count) n)
    chosen b is =
        ap (λ (m : ℕ). if n == m then own else firsts_in (firsts_up_to types count) n) (firsts_length types count)
        ∙ ap (λ (c : Bool). if c then own else firsts_in (firsts_up_to types count) n) is

    newest : n ≡ count → firsts_in (own ∷ firsts_up_to types count) n ≡ firsts_by types (firsts_up_to types n) (parts_by (type_numbered types n))
    newest same =
        chosen true (ap (λ (m : ℕ). n == m) (sym same) ∙ eq_self n)
        ∙ ap (λ (m : ℕ). firsts_by types (firsts_up_to types m) (parts_by (type_numbered types m))) (sym same)

    older : n ≢ count → (n < count → firsts_in (firsts_up_to types count) n ≡ firsts_by types (firsts_up_to types n) (parts_by (type_numbered types n)))
        → firsts_in (own ∷ firsts_up_to types count) n ≡ firsts_by types (firsts_up_to types n) (parts_by (type_numbered types n))
    older apart more = chosen false (ne_eqb n count apart) ∙ more (omega (arith, below, apart))

-- So an older list is that of an object.
module _ (types : List TypeDefinition) (n : ℕ) (below : n < count_by has_parts types) where
  own_firsts : part_firsts types (Some n) ≡ firsts_by types (firsts_up_to types n) (parts_by (type_numbered types n))
  own_firsts = firsts_at types (count_by has_parts types) n below

  older_firsts : (m : ℕ) → m < n → firsts_in (firsts_up_to types n) m ≡ part_firsts types (Some m)
  older_firsts m less = firsts_at types n m less ∙ sym (firsts_at types (count_by has_parts types) m (omega (arith, below, less)))

  -- Those of a declared component.
  abbrev begins_at : Part → List ℕ
  begins_at q = firsts_of_kind types (firsts_up_to types n) q.first.0 q.kind

  from_firsts : (first m : ℕ) → m < n → firsts_from (firsts_up_to types n) first (Some m) ≡ map (λ c. first + c) (part_firsts types (Some m))
  from_firsts first m less = ap (map (λ c. first + c)) (older_firsts m less)

  -- There are as many as the program says.
  record_count :
      (fit : TypesFit types) (first : ℕ) (u : ℕ) → is_numbered_below n (finalization_of (map type_form types) u) ≡ true
      → length (firsts_from (firsts_up_to types n) first (number_of types (Some u))) ≡ part_count (map type_form types) u
  record_count fit first u earlier =
      ap (λ (o : Option ℕ). length (firsts_from (firsts_up_to types n) first o)) (same_number types u)
      ∙ go (finalization_of (map type_form types) u) refl earlier
      ∙ ap (λ (o : Option ℕ). length (part_firsts types o)) (sym (same_number types u))
      ∙ as_many_firsts types (number_of types (Some u)) ∙ sym (parts_said types u fit)
    where
      go : (o : Option Finalization) → finalization_of (map type_form types) u ≡ o → is_numbered_below n o ≡ true
          → length (firsts_from (firsts_up_to types n) first (number_in o)) ≡ length (part_firsts types (number_in o))
      go None is less = refl
      go (Some f) is less =
          ap length (from_firsts first f.number.0 (ltb-true f.number.0 n less)) ∙ length-map (part_firsts types (Some f.number.0)) (λ c. first + c)

  count_so :
      (fit : TypesFit types) (first : ℕ) (kind : PartKind) → not (is_parent_form kind) ≡ true → is_of_earlier (map type_form types) n kind ≡ true
      → length (firsts_of_kind types (firsts_up_to types n) first kind) ≡ parts_within (map type_form types) kind
  count_so fit first (part.Elementary kind) whole earlier = refl
  count_so fit first (part.Record u) whole earlier = record_count fit first u.0 earlier
  count_so fit first part.Parent whole earlier = absurd (cc whole)

  -- Those of a component lie behind those of the components before it, so from the number on which its declaration says.
  place_so :
      (fit : TypesFit types) (count from : ℕ) (qs : List Part) (i k x : ℕ) (q : Part)
      → list_all (λ p. not (is_parent_form p.kind)) (map part_form qs) ≡ true
      → parts_in_order (map type_form types) count from (map part_form qs) ≡ true
      → list_all (λ p. is_of_earlier (map type_form types) n p.kind) (map part_form qs) ≡ true
      → slice_get qs i ≡ Some q → slice_get (begins_at q) k ≡ Some x
      → (j : ℕ) × (from + j ≡ q.part.0 + k) × (slice_get (flat_map begins_at qs) j ≡ Some x)
  place_so fit count from [] i k x q wholes in_order earlier at begins = absurd (cc at)
  place_so fit count from (p ∷ ps) zero k x q wholes in_order earlier at begins =
      let same : p ≡ q = cc in
      let o = both (p.part.0 == from) (parts_in_order (map type_form types) count (from + parts_within (map type_form types) p.kind) (map part_form ps)) in_order in
      let number : q.part.0 ≡ from = ap (λ (r : Part). r.part.0) (sym same) ∙ eqb-true p.part.0 from o.0 in
      (k, omega (arith, number), get_front (begins_at p) (flat_map begins_at ps) k x (ap (λ (r : Part). slice_get (begins_at r) k) same ∙ begins))
  place_so fit count from (p ∷ ps) (suc i) k x q wholes in_order earlier at begins =
      let w = both (not (is_parent_form p.kind)) (list_all (λ r. not (is_parent_form r.kind)) (map part_form ps)) wholes in
      let o = both (p.part.0 == from) (parts_in_order (map type_form types) count (from + parts_within (map type_form types) p.kind) (map part_form ps)) in_order in
      let l = both (is_of_earlier (map type_form types) n p.kind) (list_all (λ r. is_of_earlier (map type_form types) n r.kind) (map part_form ps)) earlier in
      let here = count_so fit p.first.0 p.kind w.0 l.0 in
      let later = place_so fit count (from + parts_within (map type_form types) p.kind) ps i k x q w.1 o.1 l.1 at begins in
      let number : from + parts_within (map type_form types) p.kind + later.0 ≡ q.part.0 + k = later.1 in (
        length (begins_at p) + later.0,
        omega (arith, here, number),
        get_behind (begins_at p) (flat_map begins_at ps) later.0 ∙ later.2,
      )

  -- Behind the first component there is no parent part.
  no_parent : (qs : List Part) → list_all (λ p. not (is_parent_form p.kind)) (map part_form qs) ≡ true → has_parent qs ≡ false
  no_parent [] none = refl
  no_parent (q ∷ qs) none =
      let here = both (not (is_parent_form q.kind)) (list_all (λ p. not (is_parent_form p.kind)) (map part_form qs)) none in
      ap (λ b. b || has_parent qs) (no_test (is_parent q.kind) here.0) ∙ no_parent qs here.1
    where
      no_test : (b : Bool) → not b ≡ true → b ≡ false
      no_test true e = absurd (cc e)
      no_test false e = refl

  -- The same with the record itself in front, where it is controlled.
  whole_so :
      (fit : TypesFit types) (count : ℕ) (qs : List Part) (i k x : ℕ) (q : Part) (u : TypeNo)
      → parent_first (map part_form qs) ≡ true
      → parts_in_order (map type_form types) count 0 (map part_form qs) ≡ true
      → list_all (λ p. is_of_earlier (map type_form types) n p.kind) (map part_form qs) ≡ true
      → slice_get qs i ≡ Some q → q.kind ≡ part.Record u → slice_get (begins_at q) k ≡ Some x
      → slice_get (firsts_by types (firsts_up_to types n) qs) (q.part.0 + k) ≡ Some x
  whole_so fit count [] i k x q u first in_order earlier at is begins = absurd (cc at)
  whole_so fit count (p ∷ ps) i k x q u first in_order earlier at is begins = by_kind p.kind refl
    where
      rest : Bool → List ℕ
      rest b = own_first b ++ flat_map begins_at (p ∷ ps)

      none : has_parent ps ≡ false
      none = no_parent ps first

      plain : not (is_parent_form p.kind) ≡ true → is_parent p.kind ≡ false → slice_get (rest (has_parent (p ∷ ps))) (q.part.0 + k) ≡ Some x
      plain whole unparented =
          let placed = place_so fit count 0 (p ∷ ps) i k x q (rw (whole, first) refl) in_order earlier at begins in
          let number : q.part.0 + k ≡ placed.0 = omega (arith, placed.1) in
          ap (λ (b : Bool). slice_get (rest (b || has_parent ps)) (q.part.0 + k)) unparented
          ∙ ap (λ (b : Bool). slice_get (rest b) (q.part.0 + k)) none
          ∙ ap (λ (j : ℕ). slice_get (flat_map begins_at (p ∷ ps)) j) number ∙ placed.2

      -- Its own components come behind it.
      behind : p.kind ≡ part.Parent → (h : ℕ) → slice_get (p ∷ ps) h ≡ Some q → slice_get (rest (has_parent (p ∷ ps))) (q.part.0 + k) ≡ Some x
      behind parent zero there =
          let same : p ≡ q = cc in
          let two : part.Parent ≡ part.Record u = sym parent ∙ ap (λ (r : Part). r.kind) same ∙ is in
          absurd (cc)
      behind parent (suc h) there =
          let o = both (p.part.0 == 0) (parts_in_order (map type_form types) count (0 + parts_within (map type_form types) p.kind) (map part_form ps)) in_order in
          let l = both (is_of_earlier (map type_form types) n p.kind) (list_all (λ r. is_of_earlier (map type_form types) n r.kind) (map part_form ps)) earlier in
          let one = subst (λ (kind : PartKind). parts_in_order (map type_form types) count (0 + parts_within (map type_form types) kind) (map part_form ps) ≡ true) parent o.1 in
          let placed = place_so fit count 1 ps h k x q first one l.1 there begins in
          let number : q.part.0 + k ≡ suc placed.0 = omega (arith, placed.1) in
          ap (λ (kind : PartKind). slice_get (own_first (is_parent kind || has_parent ps) ++ (firsts_of_kind types (firsts_up_to types n) p.first.0 kind ++ flat_map begins_at ps)) (q.part.0 + k)) parent
          ∙ ap (λ (j : ℕ). slice_get (0 ∷ flat_map begins_at ps) j) number ∙ placed.2

      by_kind : (kind : PartKind) → p.kind ≡ kind → slice_get (rest (has_parent (p ∷ ps))) (q.part.0 + k) ≡ Some x
      by_kind (part.Elementary kind) so = plain (ap (λ (r : PartKind). not (is_parent_form r)) so) (ap is_parent so)
      by_kind (part.Record t) so = plain (ap (λ (r : PartKind). not (is_parent_form r)) so) (ap is_parent so)
      by_kind part.Parent so = behind so i at

-- The component of a form is one of the program.
part_at : (qs : List Part) (i : ℕ) (p : PartForm) → slice_get (map part_form qs) i ≡ Some p → (q : Part) × (slice_get qs i ≡ Some q) × (part_form q ≡ p)
part_at [] i p at = absurd (cc at)
part_at (q ∷ qs) zero p at = (q, refl, cc at)
part_at (q ∷ qs) (suc i) p at = part_at qs i p at

-- A component that is the parent part makes its record controlled.
controlled_so : (qs : List Part) (i : ℕ) (q : Part) → slice_get qs i ≡ Some q → q.kind ≡ part.Parent → has_parent qs ≡ true
controlled_so [] i q at is = absurd (cc at)
controlled_so (p ∷ ps) zero q at is = let same : p ≡ q = cc in ap (λ (r : Part). is_parent r.kind || has_parent ps) same ∙ ap (λ (kind : PartKind). is_parent kind || has_parent ps) is
controlled_so (p ∷ ps) (suc i) q at is = later (is_parent p.kind) (controlled_so ps i q at is)
  where
    later : (b : Bool) → has_parent ps ≡ true → (b || has_parent ps) ≡ true
    later true some = refl
    later false some = some

-- What is known of a type that is declared.
pub record Known (program : Program) (t : ℕ) (ps : List PartForm) (f : Finalization) : Type 0 where
  pub qs : List Part
  pub forms : ps ≡ map part_form qs
  pub lists : parts_by (type_numbered program.types.items f.number.0) ≡ qs
  pub says_so : Says program.types.items (map part_form qs) f
  pub firsts : part_firsts program.types.items (Some f.number.0) ≡ firsts_by program.types.items (firsts_up_to program.types.items f.number.0) qs

pub known : (program : Program) (t : ℕ) (ps : List PartForm) (f : Finalization) → IsWellFormed (program_form program) → Declares program t ps f
    → Known program t ps f
known program t ps f well (name, components, declared) = record {
  qs = s.qs;
  forms = s.forms;
  lists = ap parts_by found ∙ s.lists;
  says_so = subst (λ (rs : List PartForm). Says program.types.items rs f) s.forms so;
  firsts =
      own_firsts program.types.items f.number.0 so.below
      ∙ ap (λ (o : Option TypeDefinition). firsts_by program.types.items (firsts_up_to program.types.items f.number.0) (parts_by o)) found
      ∙ ap (firsts_by program.types.items (firsts_up_to program.types.items f.number.0)) s.lists;
}
  where
    s : Stands program.types.items t ps f
    s = stands program.types.items t name ps components f declared

    so : Says program.types.items ps f
    so = says program t ps f well (name, components, declared)

    numbered : number_of program.types.items (Some t) ≡ Some f.number.0
    numbered = ap number_by s.at ∙ s.numbered

    found : type_numbered program.types.items f.number.0 ≡ Some s.d
    found =
        found_so program.types.items t f.number.0 s.d s.at s.numbered
        (λ u is. numbers_are_alone program u t f.number.0 well is numbered)

pub records_begin_themselves : RecordsBeginThemselves
records_begin_themselves program t i ps f p well declares at is =
    let k = known program t ps f well declares in
    let q = part_at k.qs i p (ap (λ (rs : List PartForm). slice_get rs i) (sym k.forms) ∙ at) in
    let some : has_parent k.qs ≡ true = controlled_so k.qs i q.0 q.1 (ap (λ (r : PartForm). r.kind) q.2 ∙ is) in
    ap (λ (xs : List ℕ). slice_get xs 0) k.firsts
    ∙ ap (λ (b : Bool). slice_get (own_first b ++ flat_map (λ r. firsts_of_kind program.types.items (firsts_up_to program.types.items f.number.0) r.first.0 r.kind) k.qs) 0) some

pub parts_begin_with_components : PartsBeginWithComponents
parts_begin_with_components program t i ps f p u m k c well declares at is numbered begins =
    ap (λ (xs : List ℕ). slice_get xs (p.part + k)) kn.firsts
    ∙ ap (λ (r : PartForm). slice_get (firsts_by types (firsts_up_to types n) kn.qs) (r.part + k)) (sym q.2)
    ∙ whole_so types n kn.says_so.below well.types_fit f.parts kn.qs i k (p.first + c) q.0 u kn.says_so.parents kn.says_so.in_order kn.says_so.earlier q.1 kind_so begins_so
  where
    types : List TypeDefinition
    types = program.types.items

    n : ℕ
    n = f.number.0

    kn : Known program t ps f
    kn = known program t ps f well declares

    q : (q : Part) × (slice_get kn.qs i ≡ Some q) × (part_form q ≡ p)
    q = part_at kn.qs i p (ap (λ (rs : List PartForm). slice_get rs i) (sym kn.forms) ∙ at)

    kind_so : q.0.kind ≡ part.Record u
    kind_so = ap (λ (r : PartForm). r.kind) q.2 ∙ is

    less : m < n
    less = go (finalization_of (map type_form types) u.0) (sym (same_number types u.0) ∙ numbered)
        (subst (λ (kind : PartKind). is_of_earlier (map type_form types) n kind ≡ true) is
        (all_passed (λ r. is_of_earlier (map type_form types) n r.kind) ps i p (subst (λ (rs : List PartForm). list_all (λ r. is_of_earlier (map type_form types) n r.kind) rs ≡ true) (sym kn.forms) kn.says_so.earlier) at))
      where
        go : (o : Option Finalization) → number_in o ≡ Some m → is_numbered_below n o ≡ true → m < n
        go None said earlier = absurd (cc said)
        go (Some g) said earlier = let same : g.number.0 ≡ m = cc said in subst (λ (j : ℕ). j < n) same (ltb-true g.number.0 n earlier)

    begins_so : slice_get (firsts_of_kind types (firsts_up_to types n) q.0.first.0 q.0.kind) k ≡ Some (p.first + c)
    begins_so =
        ap (λ (kind : PartKind). slice_get (firsts_of_kind types (firsts_up_to types n) q.0.first.0 kind) k) kind_so
        ∙ ap (λ (o : Option ℕ). slice_get (firsts_from (firsts_up_to types n) q.0.first.0 o) k) numbered
        ∙ ap (λ (xs : List ℕ). slice_get xs k) (from_firsts types n kn.says_so.below q.0.first.0 m less)
        ∙ slice_get-map (λ d. q.0.first.0 + d) (part_firsts types (Some m)) k ∙ ap (option_map (λ d. q.0.first.0 + d)) begins
        ∙ ap (λ (r : PartForm). Some (r.first + c)) q.2

pub parts_are_counted : PartsAreCounted
parts_are_counted program t ps f well (name, components, declared) =
    let types = program.types.items in
    let fin : finalization_of (map type_form types) t ≡ Some f = ap finalization_in declared in
    ap (λ (o : Option ℕ). length (part_firsts types o)) (sym (same_number types t ∙ ap number_in fin))
    ∙ as_many_firsts types (number_of types (Some t)) ∙ sym (parts_said types t well.types_fit) ∙ ap count_said fin
