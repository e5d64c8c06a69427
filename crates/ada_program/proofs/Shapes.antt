-- A well-formed program says of each record type how many controlled parts its objects have: as many as finalization sees (7.6).

use Rattle.std.proofs.Common.{◌≡◌, ℕ, zero, suc, ◌+◌, ◌<◌, Bool, true, false, ◌==◌, if◌then◌else◌, List, [], ◌∷◌, length, map, Option, Some, None, refl, sym, ap, ◌∙◌, inl, inr, subst, arith}
use Rattle.std.specs.Prelude.{◌&&◌, ◌||◌, not, nat_lt, count_by, find, is_some}
use Rattle.std.specs.List.{list_all, slice_get, sum_by}
use Rattle.std.specs.Option.{option_map}
use Rattle.std.specs.String.{string_bytes}
use Rattle.std.proofs.lemmas.Bool.{eqb-true, ltb-true}
use Rattle.std.proofs.lemmas.Bool.Decides.{eqb_tells}
use Rattle.std.proofs.lemmas.Grind.{common_steps}
use Rattle.std.proofs.lemmas.List.Sums.{sum_by-cons, sum_by-append}
use Rattle.std.proofs.lemmas.Option.{slice_get-map}
use Rattle.ada_parts.specs.Shape.{Shape, own_parts, parts_of}
use Rattle.ada_parts.proofs.Facts.{eq_self}
use Rattle.ada_parts.proofs.Tables.{parts_newest, parts_older}
use Rattle.ada_program.specs.declared.program.ComponentKind.{ComponentKind}
use Rattle.ada_program.specs.declared.program.Finalization.{Finalization}
use Rattle.ada_program.specs.declared.program.Part.{Part}
use Rattle.ada_program.specs.declared.program.PartKind.{PartKind}
use Rattle.ada_program.specs.declared.program.PartKind.TheVariants as part
use Rattle.ada_program.specs.declared.program.TypeDefinition.{TypeDefinition}
use Rattle.ada_program.specs.declared.program.TypeDefinition.TheVariants as definition
use Rattle.ada_program.specs.Controlled.{number_in, number_by, number_of, is_number, type_numbered, parts_by, has_parent, if_parts, with_parts, components_with_parts, shape_by, shapes_up_to, has_parts, shapes_of}
use Rattle.ada_program.specs.ProgramForm.{PartForm, TypeForm, record_of, part_form, type_form}
use Rattle.ada_program.specs.WellFormed.{finalization_in, finalization_of, count_said, kind_fits, says_parts, is_numbered_alone, part_count, parts_within, is_parent, is_numbered_below, is_of_earlier, parts_in_order, parent_first, has_number, numbered_types, type_fits}
use Rattle.ada_program.proofs.Viewed.{count_viewed}

-- How many parts a record type has by its number, if it is known to have some.
abbrev pub parts_for : List Shape → Option ℕ → ℕ
parts_for shapes None = 0
parts_for shapes (Some n) = parts_of shapes n

-- Each type fits.
abbrev pub TypesFit : List TypeDefinition → Type 0
TypesFit types = list_all (type_fits (map type_form types)) (map type_form types) ≡ true

-- Both tests are passed where their conjunction is.
both : (a b : Bool) → (a && b) ≡ true → (a ≡ true) × (b ≡ true)
both true b e = (refl, e)
both false b e = absurd (cc e)

-- Where an element passes a test, some do.
counted : {X : Type 0} (p : X → Bool) (xs : List X) (t : ℕ) (x : X) → slice_get xs t ≡ Some x → p x ≡ true → 0 < count_by p xs
counted p [] t x at does = absurd (cc at)
counted p (y ∷ ys) zero x at does = grind (arith, common_steps)
counted p (y ∷ ys) (suc t) x at does = let more = counted p ys t x at does in grind (arith, common_steps, more)

-- The only element that passes a test is the one that is found.
found_one : {X : Type 0} (p : X → Bool) (xs : List X) (t : ℕ) (x : X) → slice_get xs t ≡ Some x → p x ≡ true → count_by p xs ≡ 1 → find p xs ≡ Some x
found_one p [] t x at does one = absurd (cc at)
found_one p (y ∷ ys) zero x at does one = grind (arith, common_steps)
found_one p (y ∷ ys) (suc t) x at does one =
    let some = counted p ys t x at does in
    let again = found_one p ys t x at does in
    grind (arith, common_steps, some, again)

-- Tests that agree are passed by as many.
same_count : {X : Type 0} (p q : X → Bool) → ((x : X) → p x ≡ q x) → (xs : List X) → count_by p xs ≡ count_by q xs
same_count p q same [] = refl
same_count p q same (x ∷ xs) = let more = same_count p q same xs in let here = same x in grind (arith, common_steps, more, here)

-- What is seen of each element passes a test where that of all does.
all_at : {X Y : Type 0} (p : Y → Bool) (f : X → Y) (xs : List X) (t : ℕ) (x : X) → list_all p (map f xs) ≡ true → slice_get xs t ≡ Some x → p (f x) ≡ true
all_at p f [] t x all at = absurd (cc at)
all_at p f (y ∷ ys) zero x all at = grind (arith, common_steps)
all_at p f (y ∷ ys) (suc t) x all at = all_at p f ys t x (both (p (f y)) (list_all p (map f ys)) all).1 at

-- The number of a type is that which its finalization says.
number_said : (o : Option TypeDefinition) → number_by o ≡ number_in (finalization_in (option_map type_form o))
number_said None = refl
number_said (Some (definition.Record name parts components finalization)) = refl
number_said (Some (definition.Access name designated pool)) = refl
number_said (Some (definition.Object record_type)) = refl

pub same_number : (types : List TypeDefinition) (t : ℕ) → number_of types (Some t) ≡ number_in (finalization_of (map type_form types) t)
same_number types t =
    number_said (slice_get types t) ∙ ap (λ o. number_in (finalization_in o)) (sym (slice_get-map type_form types t))

-- Types have a number where their forms have it.
has_it : (n : ℕ) (finalization : Option Finalization) → has_number n finalization ≡ is_number n (number_in finalization)
has_it n None = refl
has_it n (Some f) = refl

numbered_alike : (n : ℕ) (d : TypeDefinition) → has_number n (finalization_in (Some (type_form d))) ≡ is_number n (number_by (Some d))
numbered_alike n (definition.Record name parts components finalization) = has_it n finalization
numbered_alike n (definition.Access name designated pool) = refl
numbered_alike n (definition.Object record_type) = refl

some_said : (finalization : Option Finalization) → is_some finalization ≡ is_some (number_in finalization)
some_said None = refl
some_said (Some f) = refl

parts_alike : (d : TypeDefinition) → is_some (finalization_in (Some (type_form d))) ≡ has_parts d
parts_alike (definition.Record name parts components finalization) = some_said finalization
parts_alike (definition.Access name designated pool) = refl
parts_alike (definition.Object record_type) = refl

-- As many types have controlled parts as their forms say.
pub same_types : (types : List TypeDefinition) → numbered_types (map type_form types) ≡ count_by has_parts types
same_types types =
    count_viewed (λ u. is_some (finalization_in (Some u))) type_form types
    ∙ same_count (λ d. is_some (finalization_in (Some (type_form d)))) has_parts parts_alike types

-- What a program says of a record type whose objects have controlled parts.
record Says (types : List TypeDefinition) (f : Finalization) (ps : List Part) : Type 0 where
  parents : parent_first (map part_form ps) ≡ true
  in_order : parts_in_order (map type_form types) f.parts 0 (map part_form ps) ≡ true
  earlier : list_all (λ p. is_of_earlier (map type_form types) f.number.0 p.kind) (map part_form ps) ≡ true
  below : f.number.0 < count_by has_parts types
  alone : count_by (λ d. is_number f.number.0 (number_by (Some d))) types ≡ 1

-- A record type whose objects have controlled parts, by its number in the program.
record Stands (types : List TypeDefinition) (t : ℕ) (f : Finalization) : Type 0 where
  d : TypeDefinition
  ps : List Part
  at : slice_get types t ≡ Some d
  numbered : number_by (Some d) ≡ Some f.number.0
  lists : parts_by (Some d) ≡ ps
  says : Says types f ps

says_of : (types : List TypeDefinition) (name : List ℕ) (ps : List Part) (components : List ComponentKind) (f : Finalization)
    → type_fits (map type_form types) (record_of name (map part_form ps) components (Some f)) ≡ true → Says types f ps
says_of types name ps components f fits = record {
  parents = parented.1;
  in_order = (both (nat_lt 0 f.parts) (parts_in_order forms f.parts 0 parts) ordered.0).1;
  earlier = ordered.1;
  below = subst (λ n. f.number.0 < n) (same_types types) (ltb-true f.number.0 (numbered_types forms) numbered.0);
  alone =
      sym (same_count (λ d. is_its (type_form d)) (λ d. is_number f.number.0 (number_by (Some d))) (numbered_alike f.number.0) types)
      ∙ sym (count_viewed is_its type_form types) ∙ eqb-true (count_by is_its forms) 1 numbered.1;
}
  where
    forms : List TypeForm
    forms = map type_form types

    is_its : TypeForm → Bool
    is_its u = has_number f.number.0 (finalization_in (Some u))

    parts : List PartForm
    parts = map part_form ps

    earlier_parts : Bool
    earlier_parts = list_all (λ p. is_of_earlier forms f.number.0 p.kind) parts

    kinds : Bool
    kinds = list_all (kind_fits forms) components

    apart : (((kinds && parent_first parts) && says_parts forms (Some f) parts) ≡ true) × (is_numbered_alone forms (Some f) ≡ true)
    apart =
        both ((kinds && parent_first parts) && says_parts forms (Some f) parts) (is_numbered_alone forms (Some f))
        fits

    saying : ((kinds && parent_first parts) ≡ true) × (says_parts forms (Some f) parts ≡ true)
    saying = both (kinds && parent_first parts) (says_parts forms (Some f) parts) apart.0

    parented : (kinds ≡ true) × (parent_first parts ≡ true)
    parented = both kinds (parent_first parts) saying.0

    ordered : ((nat_lt 0 f.parts && parts_in_order forms f.parts 0 parts) ≡ true) × (earlier_parts ≡ true)
    ordered = both (nat_lt 0 f.parts && parts_in_order forms f.parts 0 parts) earlier_parts saying.1

    numbered : (nat_lt f.number.0 (numbered_types forms) ≡ true) × ((count_by is_its forms == 1) ≡ true)
    numbered = both (nat_lt f.number.0 (numbered_types forms)) (count_by is_its forms == 1) apart.1

-- A type that is finalized stands in the program, and says so.
stands : (types : List TypeDefinition) (t : ℕ) (f : Finalization) → TypesFit types → finalization_of (map type_form types) t ≡ Some f → Stands types t f
stands types t f fit is = go (slice_get types t) refl (ap finalization_in (sym (slice_get-map type_form types t)) ∙ is)
  where
    go : (o : Option TypeDefinition) → slice_get types t ≡ o → finalization_in (option_map type_form o) ≡ Some f → Stands types t f
    go None at said = absurd (cc said)
    go (Some (definition.Record name parts components finalization)) at said = record {
      d = definition.Record name parts components finalization;
      ps = parts.items;
      at = at;
      numbered = ap number_in said;
      lists = refl;
      says =
          let fits = all_at (type_fits (map type_form types)) type_form types t (definition.Record name parts components finalization) fit at in
          says_of types (string_bytes name) parts.items components.items f
          (subst (λ (o : Option Finalization). type_fits (map type_form types) (record_of (string_bytes name) (map part_form parts.items) components.items o) ≡ true) said fits);
    }
    go (Some (definition.Access name designated pool)) at said = absurd (cc said)
    go (Some (definition.Object record_type)) at said = absurd (cc said)

-- The types with less numbers than this are known to have as many parts as they say.
abbrev AreKnown : List TypeDefinition → (older : List Shape) → (number : ℕ) → Type 0
AreKnown types older n =
    (t : ℕ) (f : Finalization) → finalization_of (map type_form types) t ≡ Some f → f.number.0 < n → parts_of older f.number.0 ≡ f.parts

-- A component counts where its type has parts.
if_sum : (older : List Shape) (n : Option ℕ) → sum_by (parts_of older) (if_parts older n) ≡ parts_for older n
if_sum older None = refl
if_sum older (Some n) = go (parts_of older n == 0) refl
  where
    go : (b : Bool) → (parts_of older n == 0) ≡ b → sum_by (parts_of older) (if b then [] else n ∷ []) ≡ parts_of older n
    go true none = sym (eqb-true (parts_of older n) 0 none)
    go false some = let e = sum_by-cons (parts_of older) n [] in omega (arith, e)

record_sum : (types : List TypeDefinition) (older : List Shape) (n t : ℕ) → AreKnown types older n
    → is_numbered_below n (finalization_of (map type_form types) t) ≡ true
    → parts_for older (number_of types (Some t)) ≡ part_count (map type_form types) t
record_sum types older n t known below = ap (parts_for older) (same_number types t) ∙ go (finalization_of (map type_form types) t) refl below
  where
    go : (o : Option Finalization) → finalization_of (map type_form types) t ≡ o → is_numbered_below n o ≡ true → parts_for older (number_in o) ≡ count_said o
    go None is less = refl
    go (Some f) is less = known t f is (ltb-true f.number.0 n less)

part_sum : (types : List TypeDefinition) (older : List Shape) (n : ℕ) (kind : PartKind) → AreKnown types older n
    → not (is_parent kind) ≡ true → is_of_earlier (map type_form types) n kind ≡ true
    → sum_by (parts_of older) (with_parts types older kind) ≡ parts_within (map type_form types) kind
part_sum types older n (part.Elementary kind) known whole earlier = refl
part_sum types older n (part.Record t) known whole earlier =
    if_sum older (number_of types (Some t.0)) ∙ record_sum types older n t.0 known earlier
part_sum types older n part.Parent known whole earlier = absurd (cc whole)

-- Behind the first component there is no parent part.
no_parent : (ps : List Part) → list_all (λ q. not (is_parent q.kind)) (map part_form ps) ≡ true → has_parent ps ≡ false
no_parent [] none = refl
no_parent (p ∷ ps) none =
    let here = both (not (is_parent p.kind)) (list_all (λ q. not (is_parent q.kind)) (map part_form ps)) none in
    ap (λ b. b || has_parent ps) (no_test (is_parent p.kind) here.0) ∙ no_parent ps here.1
  where
    no_test : (b : Bool) → not b ≡ true → b ≡ false
    no_test true e = absurd (cc e)
    no_test false e = refl

-- Components that are no parent parts have together as many parts as their numbers say.
parts_sum : (types : List TypeDefinition) (older : List Shape) (n count from : ℕ) (ps : List Part) → AreKnown types older n
    → list_all (λ q. not (is_parent q.kind)) (map part_form ps) ≡ true
    → parts_in_order (map type_form types) count from (map part_form ps) ≡ true
    → list_all (λ q. is_of_earlier (map type_form types) n q.kind) (map part_form ps) ≡ true
    → from + sum_by (parts_of older) (components_with_parts types older ps) ≡ count
parts_sum types older n count from [] known none in_order earlier = let e = eqb-true from count in_order in omega (arith, e)
parts_sum types older n count from (p ∷ ps) known none in_order earlier =
    let w = both (not (is_parent p.kind)) (list_all (λ q. not (is_parent q.kind)) (map part_form ps)) none in
    let o = both (p.part.0 == from) (parts_in_order (map type_form types) count (from + parts_within (map type_form types) p.kind) (map part_form ps)) in_order in
    let l = both (is_of_earlier (map type_form types) n p.kind) (list_all (λ q. is_of_earlier (map type_form types) n q.kind) (map part_form ps)) earlier in
    let here = part_sum types older n p.kind known w.0 l.0 in
    let more = parts_sum types older n count (from + parts_within (map type_form types) p.kind) ps known w.1 o.1 l.1 in
    let e = sum_by-append (parts_of older) (with_parts types older p.kind) (components_with_parts types older ps) in
    omega (arith, here, more, e)

-- A record has itself, if it is controlled, and the parts of its components.
first_sum : (types : List TypeDefinition) (older : List Shape) (n : ℕ) (kind : PartKind) → AreKnown types older n
    → is_of_earlier (map type_form types) n kind ≡ true
    → (if is_parent kind || false then 1 else 0) + sum_by (parts_of older) (with_parts types older kind) ≡ parts_within (map type_form types) kind
first_sum types older n (part.Elementary kind) known earlier = refl
first_sum types older n (part.Record t) known earlier = let e = part_sum types older n (part.Record t) known refl earlier in omega (arith, e)
first_sum types older n part.Parent known earlier = refl

whole_sum : (types : List TypeDefinition) (older : List Shape) (n count : ℕ) (ps : List Part) → AreKnown types older n
    → parent_first (map part_form ps) ≡ true
    → parts_in_order (map type_form types) count 0 (map part_form ps) ≡ true
    → list_all (λ q. is_of_earlier (map type_form types) n q.kind) (map part_form ps) ≡ true
    → own_parts (shape_by types older ps) + sum_by (parts_of older) (shape_by types older ps).components ≡ count
whole_sum types older n count [] known first in_order earlier = eqb-true 0 count in_order
whole_sum types older n count (p ∷ ps) known first in_order earlier =
    let o = both (p.part.0 == 0) (parts_in_order (map type_form types) count (0 + parts_within (map type_form types) p.kind) (map part_form ps)) in_order in
    let l = both (is_of_earlier (map type_form types) n p.kind) (list_all (λ q. is_of_earlier (map type_form types) n q.kind) (map part_form ps)) earlier in
    let own : own_parts (shape_by types older (p ∷ ps)) ≡ (if is_parent p.kind || false then 1 else 0) = ap (λ b. if is_parent p.kind || b then 1 else 0) (no_parent ps first) in
    let here = first_sum types older n p.kind known l.0 in
    let more = parts_sum types older n count (0 + parts_within (map type_form types) p.kind) ps known first o.1 l.1 in
    let e = sum_by-append (parts_of older) (with_parts types older p.kind) (components_with_parts types older ps) in
    omega (arith, own, here, more, e)

-- There are as many shapes as numbers.
pub shapes_length : (types : List TypeDefinition) (n : ℕ) → length (shapes_up_to types n) ≡ n
shapes_length types zero = refl
shapes_length types (suc n) = let e = shapes_length types n in omega (arith, e)

-- Each type among the first ones has as many parts as it says.
up_to : (types : List TypeDefinition) → TypesFit types → (n : ℕ) → AreKnown types (shapes_up_to types n) n
up_to types fit zero = λ t f is below. absurd (omega (arith, below))
up_to types fit (suc n) = one (up_to types fit n)
  where
    older : List Shape
    older = shapes_up_to types n

    newest : Shape
    newest = shape_by types older (parts_by (type_numbered types n))

    its : AreKnown types older n → (t : ℕ) (f : Finalization) → Stands types t f → f.number.0 ≡ n → parts_of (newest ∷ older) f.number.0 ≡ f.parts
    its known t f s same =
        let found = found_one (λ d. is_number f.number.0 (number_by (Some d))) types t s.d s.at (ap (is_number f.number.0) s.numbered ∙ eq_self f.number.0) s.says.alone in
        let there : parts_by (type_numbered types n) ≡ s.ps = subst (λ (m : ℕ). parts_by (type_numbered types m) ≡ s.ps) same (ap parts_by found ∙ s.lists) in
        let earlier = subst (λ (m : ℕ). list_all (λ q. is_of_earlier (map type_form types) m q.kind) (map part_form s.ps) ≡ true) same s.says.earlier in
        let at : f.number.0 ≡ length older = same ∙ sym (shapes_length types n) in
        ap (parts_of (newest ∷ older)) at ∙ parts_newest newest older
        ∙ ap (λ (ps : List Part). own_parts (shape_by types older ps) + sum_by (parts_of older) (shape_by types older ps).components) there
        ∙ whole_sum types older n f.parts s.ps known s.says.parents s.says.in_order earlier

    one : AreKnown types older n → AreKnown types (newest ∷ older) (suc n)
    one known = λ t f is below. elim (eqb_tells f.number.0 n) [
      | inl h ↦ its known t f (stands types t f fit is) h.1
      | inr h ↦
          let ne = h.1 in
          let e = shapes_length types n in
          parts_older newest older f.number.0 (λ same. ne (same ∙ e)) ∙ known t f is (omega (arith, below, ne))
    ]

-- Objects of each record type have as many controlled parts as the program says.
pub parts_said : (types : List TypeDefinition) (t : ℕ) → TypesFit types
    → part_count (map type_form types) t ≡ parts_for (shapes_of types) (number_of types (Some t))
parts_said types t fit = go (finalization_of (map type_form types) t) refl ∙ ap (parts_for (shapes_of types)) (sym (same_number types t))
  where
    go : (o : Option Finalization) → finalization_of (map type_form types) t ≡ o → count_said o ≡ parts_for (shapes_of types) (number_in o)
    go None is = refl
    go (Some f) is =
        let s = stands types t f fit is in
        sym (up_to types fit (count_by has_parts types) t f is s.says.below)
