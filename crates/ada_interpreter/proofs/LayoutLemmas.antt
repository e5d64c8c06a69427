-- Where controlled parts lie in an object: by the table of all record types, and by the layout of each.

use Rattle.std.proofs.Common.{◌≡◌, ◌≢◌, ℕ, zero, suc, ◌+◌, ◌<◌, ◌≤◌, Bool, true, false, List, [], ◌∷◌, ◌++◌, length, map, get_or, Option, Some, None, refl, sym, ap, ◌∙◌, inl, inr, append_assoc, arith}
use Rattle.std.specs.Prelude.{◌==◌, if◌then◌else◌, nat_lt, count_by}
use Rattle.std.specs.List.{flat_map, slice_get}
use Rattle.std.specs.Option.{option_map}
use Rattle.std.proofs.lemmas.Bool.{ltb-true, ltb-false}
use Rattle.std.proofs.lemmas.Bool.Decides.{eqb_tells}
use Rattle.std.proofs.lemmas.List.{map-append, length-append, length-map, append-nil}
use Rattle.std.proofs.lemmas.Option.{slice_get-map, slice_get_read}
use Rattle.ada_parts.proofs.Facts.{eq_self, eq_not}
use Rattle.ada_program.specs.declared.program.Part.{Part}
use Rattle.ada_program.specs.declared.program.PartKind.{PartKind}
use Rattle.ada_program.specs.declared.program.PartKind.TheVariants as part
use Rattle.ada_program.specs.declared.program.TypeDefinition.{TypeDefinition}
use Rattle.ada_program.specs.Controlled.{number_of, number_reached, part_firsts, type_numbered, parts_by, has_parent, has_parts, firsts_in, firsts_from, firsts_of_kind, own_first, firsts_by, firsts_up_to}
use Rattle.ada_program.proofs.Firsts.{firsts_length}
use Rattle.ada_meaning.specs.Heap.{PartState}
use Rattle.ada_meaning.specs.Step.{new_part, new_parts}
use Rattle.ada_interpreter.specs.declared.layouts.Inner.{Inner}
use Rattle.ada_interpreter.specs.declared.layouts.Layout.{Layout as HeldLayout}
use Rattle.ada_interpreter.specs.Loaded.{inner_at, inner_by, inner_of, Layout, layout_form, layout_by, layouts_up_to, AreLaidOut, parts_from, parts_entered, parts_within}

-- the newest list of a table, an older one, and one that is not there
in_newest : (firsts : List ℕ) (older : List (List ℕ)) (k : ℕ) → k ≡ length older → firsts_in (firsts ∷ older) k ≡ firsts
in_newest firsts older k e = ap (λ (b : Bool). if b then firsts else firsts_in older k) (ap (λ (m : ℕ). m == length older) e ∙ eq_self (length older))

in_older : (firsts : List ℕ) (older : List (List ℕ)) (k : ℕ) → k ≢ length older → firsts_in (firsts ∷ older) k ≡ firsts_in older k
in_older firsts older k ne = ap (λ (b : Bool). if b then firsts else firsts_in older k) (eq_not k (length older) ne)

in_none : (table : List (List ℕ)) (k : ℕ) → length table ≤ k → firsts_in table k ≡ []
in_none [] k past = refl
in_none (firsts ∷ older) k past = in_older firsts older k (λ e. omega (arith, e, past)) ∙ in_none older k (omega (arith, past))

-- the table of the first types has the list of each of them
older_firsts : (types : List TypeDefinition) (n k : ℕ) → k < n → firsts_in (firsts_up_to types n) k ≡ firsts_by types (firsts_up_to types k) (parts_by (type_numbered types k))
older_firsts types zero k less = absurd (omega arith)
older_firsts types (suc n) k less = elim (eqb_tells k n) [ inl h ↦ newest h.1 | inr h ↦ old h.1 (older_firsts types n k) ]
  where
    size : length (firsts_up_to types n) ≡ n
    size = firsts_length types n

    newest : k ≡ n → firsts_in (firsts_up_to types (suc n)) k ≡ firsts_by types (firsts_up_to types k) (parts_by (type_numbered types k))
    newest e =
        in_newest (firsts_by types (firsts_up_to types n) (parts_by (type_numbered types n))) (firsts_up_to types n) k (e ∙ sym size)
        ∙ ap (λ (m : ℕ). firsts_by types (firsts_up_to types m) (parts_by (type_numbered types m))) (sym e)

    old : k ≢ n → (k < n → firsts_in (firsts_up_to types n) k ≡ firsts_by types (firsts_up_to types k) (parts_by (type_numbered types k)))
        → firsts_in (firsts_up_to types (suc n)) k ≡ firsts_by types (firsts_up_to types k) (parts_by (type_numbered types k))
    old ne more =
        in_older (firsts_by types (firsts_up_to types n) (parts_by (type_numbered types n))) (firsts_up_to types n) k (λ e. ne (e ∙ size))
        ∙ more (omega (arith, less, ne))

-- parts that begin behind two others
shifted : (base first : ℕ) (xs : List ℕ) → map (λ c. base + first + c) xs ≡ map (λ c. base + c) (map (λ c. first + c) xs)
shifted base first [] = refl
shifted base first (x ∷ xs) =
    let e : base + first + x ≡ base + (first + x) = omega arith in
    ap (λ (y : ℕ). y ∷ map (λ c. base + first + c) xs) e ∙ ap (λ (ys : List ℕ). (base + (first + x)) ∷ ys) (shifted base first xs)

module _ (types : List TypeDefinition) (base n : ℕ) where
  -- parts of a new record, by their first components in an inner one
  abbrev placed : List ℕ → List PartState
  placed xs = map new_part (map (λ c. base + c) xs)

  -- the parts of a component are those that the types with less numbers say
  entered_is : n ≤ count_by has_parts types → (inner : Inner)
      → parts_entered types base n inner ≡ placed (map (λ c. inner.first + c) (firsts_in (firsts_up_to types n) inner.of))
  entered_is within inner = go (nat_lt inner.of n) refl
    where
      go : (b : Bool) → nat_lt inner.of n ≡ b
          → (if b then parts_from types (base + inner.first) inner.of else []) ≡ placed (map (λ c. inner.first + c) (firsts_in (firsts_up_to types n) inner.of))
      go true is =
          let less = ltb-true inner.of n is in
          ap (λ (xs : List ℕ). map new_part (map (λ c. base + inner.first + c) xs))
          (older_firsts types (count_by has_parts types) inner.of (omega (arith, less, within)) ∙ sym (older_firsts types n inner.of less))
          ∙ ap (λ (xs : List ℕ). map new_part xs) (shifted base inner.first (firsts_in (firsts_up_to types n) inner.of))
      go false is =
          let past = ltb-false inner.of n is in
          let size = firsts_length types n in
          ap (λ (xs : List ℕ). placed (map (λ c. inner.first + c) xs)) (sym (in_none (firsts_up_to types n) inner.of (omega (arith, past, size))))

  within_more : (xs ys : List Inner) → parts_within types base n (xs ++ ys) ≡ parts_within types base n xs ++ parts_within types base n ys
  within_more [] ys = refl
  within_more (x ∷ xs) ys =
      ap (λ (ps : List PartState). parts_entered types base n x ++ ps) (within_more xs ys)
      ∙ sym (append_assoc (parts_entered types base n x) (parts_within types base n xs) (parts_within types base n ys))

  kind_within : n ≤ count_by has_parts types → (first : ℕ) (kind : PartKind)
      → placed (firsts_of_kind types (firsts_up_to types n) first kind) ≡ parts_within types base n (inner_by types first kind)
  kind_within within first (part.Elementary kind) = refl
  kind_within within first (part.Record t) = go (number_of types (Some t.0))
    where
      go : (o : Option ℕ) → placed (firsts_from (firsts_up_to types n) first o) ≡ parts_within types base n (inner_at first o)
      go None = refl
      go (Some m) =
          sym (entered_is within (record { first = first; of = m }))
          ∙ sym (append-nil (parts_entered types base n (record { first = first; of = m })))
  kind_within within first part.Parent = refl

  all_within : n ≤ count_by has_parts types → (ps : List Part)
      → placed (flat_map (λ p. firsts_of_kind types (firsts_up_to types n) p.first.0 p.kind) ps) ≡ parts_within types base n (inner_of types ps)
  all_within within [] = refl
  all_within within (p ∷ ps) =
      ap (λ (xs : List ℕ). map new_part xs)
      (map-append (λ c. base + c) (firsts_of_kind types (firsts_up_to types n) p.first.0 p.kind)
      (flat_map (λ q. firsts_of_kind types (firsts_up_to types n) q.first.0 q.kind) ps))
      ∙ map-append new_part (map (λ c. base + c) (firsts_of_kind types (firsts_up_to types n) p.first.0 p.kind))
      (map (λ c. base + c) (flat_map (λ q. firsts_of_kind types (firsts_up_to types n) q.first.0 q.kind) ps))
      ∙ ap (λ (xs : List PartState). xs ++ placed (flat_map (λ q. firsts_of_kind types (firsts_up_to types n) q.first.0 q.kind) ps)) (kind_within within p.first.0 p.kind)
      ∙ ap (λ (xs : List PartState). parts_within types base n (inner_by types p.first.0 p.kind) ++ xs) (all_within within ps)
      ∙ sym (within_more (inner_by types p.first.0 p.kind) (inner_of types ps))

-- the record itself comes first, if it is controlled
abbrev pub own_parts : (controlled : Bool) → (base : ℕ) → List PartState
own_parts true base = new_part base ∷ []
own_parts false base = []

own_is : (controlled : Bool) (base : ℕ) → map new_part (map (λ c. base + c) (own_first controlled)) ≡ own_parts controlled base
own_is true base = let e : base + 0 ≡ base = omega arith in ap (λ (c : ℕ). new_part c ∷ []) e
own_is false base = refl

parts_known : (types : List TypeDefinition) (base n : ℕ) → n < count_by has_parts types
    → parts_from types base n ≡ own_parts (has_parent (parts_by (type_numbered types n))) base ++ parts_within types base n (inner_of types (parts_by (type_numbered types n)))
parts_known types base n less =
    ap (λ (xs : List ℕ). map new_part (map (λ c. base + c) xs)) (older_firsts types (count_by has_parts types) n less)
    ∙ ap (λ (xs : List ℕ). map new_part xs) (map-append (λ c. base + c) own others)
    ∙ map-append new_part (map (λ c. base + c) own) (map (λ c. base + c) others)
    ∙ ap (λ (xs : List PartState). xs ++ map new_part (map (λ c. base + c) others)) (own_is (has_parent ps) base)
    ∙ ap (λ (xs : List PartState). own_parts (has_parent ps) base ++ xs) (all_within types base n (omega (arith, less)) ps)
  where
    ps : List Part
    ps = parts_by (type_numbered types n)

    own : List ℕ
    own = own_first (has_parent ps)

    others : List ℕ
    others = flat_map (λ p. firsts_of_kind types (firsts_up_to types n) p.first.0 p.kind) ps

-- a table of layouts has as many as numbers, and the one of each number
layouts_length : (types : List TypeDefinition) (n : ℕ) → length (layouts_up_to types n) ≡ n
layouts_length types zero = refl
layouts_length types (suc n) =
    let more = layouts_length types n in
    let e = length-append (layouts_up_to types n) (layout_by types (parts_by (type_numbered types n)) ∷ []) in
    omega (arith, more, e)

get_front : {X : Type 0} (xs ys : List X) (k : ℕ) → k < length xs → slice_get (xs ++ ys) k ≡ slice_get xs k
get_front [] ys k less = absurd (omega arith)
get_front (x ∷ xs) ys zero less = refl
get_front (x ∷ xs) ys (suc k) less = get_front xs ys k (omega (arith, less))

get_seam : {X : Type 0} (xs : List X) (y : X) (k : ℕ) → k ≡ length xs → slice_get (xs ++ y ∷ []) k ≡ Some y
get_seam [] y zero is = refl
get_seam [] y (suc k) is = absurd (omega (arith, is))
get_seam (x ∷ xs) y zero is = absurd (omega (arith, is))
get_seam (x ∷ xs) y (suc k) is = get_seam xs y k (omega (arith, is))

layout_at : (types : List TypeDefinition) (n k : ℕ) → k < n → slice_get (layouts_up_to types n) k ≡ Some (layout_by types (parts_by (type_numbered types k)))
layout_at types zero k less = absurd (omega arith)
layout_at types (suc n) k less = elim (eqb_tells k n) [ inl h ↦ newest h.1 | inr h ↦ old h.1 (layout_at types n k) ]
  where
    size : length (layouts_up_to types n) ≡ n
    size = layouts_length types n

    newest : k ≡ n → slice_get (layouts_up_to types (suc n)) k ≡ Some (layout_by types (parts_by (type_numbered types k)))
    newest e =
        get_seam (layouts_up_to types n) (layout_by types (parts_by (type_numbered types n))) k (e ∙ sym size)
        ∙ ap (λ (m : ℕ). Some (layout_by types (parts_by (type_numbered types m)))) (sym e)

    old : k ≢ n → (k < n → slice_get (layouts_up_to types n) k ≡ Some (layout_by types (parts_by (type_numbered types k))))
        → slice_get (layouts_up_to types (suc n)) k ≡ Some (layout_by types (parts_by (type_numbered types k)))
    old ne more =
        let less_still : k < n = omega (arith, less, ne) in
        get_front (layouts_up_to types n) (layout_by types (parts_by (type_numbered types n)) ∷ []) k (omega (arith, less_still, size)) ∙ more less_still

module _ (types : List TypeDefinition) (layouts : List HeldLayout) (known : AreLaidOut types layouts) where
  layouts_count : length layouts ≡ count_by has_parts types
  layouts_count =
      sym (length-map layouts layout_form) ∙ ap (λ (ls : List Layout). length ls) known ∙ layouts_length types (count_by has_parts types)

  -- a record of a type without a layout has no controlled parts
  pub none_laid : (base n : ℕ) → length layouts ≤ n → parts_from types base n ≡ []
  none_laid base n past =
      let size = firsts_length types (count_by has_parts types) in
      ap (λ (xs : List ℕ). map new_part (map (λ c. base + c) xs))
      (in_none (firsts_up_to types (count_by has_parts types)) n (omega (arith, past, size, layouts_count)))

  -- and others have theirs where the layout says
  pub laid : (base n : ℕ) (layout : HeldLayout) → n < length layouts → layout ≡ get_or layouts n layout
      → own_parts layout.controlled base ++ parts_within types base n layout.inner.items ≡ parts_from types base n
  laid base n layout less here =
      let within : n < count_by has_parts types = omega (arith, less, layouts_count) in
      let seen : Some (layout_form layout) ≡ slice_get (map layout_form layouts) n =
      sym (slice_get-map layout_form layouts n ∙ ap (option_map layout_form) (slice_get_read layouts (length layouts) n layout refl less here)) in
      let same : Some (layout_form layout) ≡ Some (layout_by types (parts_by (type_numbered types n))) =
      seen ∙ ap (λ (ls : List Layout). slice_get ls n) known ∙ layout_at types (count_by has_parts types) n within in
      let is : layout_form layout ≡ layout_by types (parts_by (type_numbered types n)) = cc same in
      ap (λ (l : Layout). own_parts l.controlled base ++ parts_within types base n l.inner) is ∙ sym (parts_known types base n within)

-- what begins with the first component begins in an object where it does in the record
from_start : (xs : List ℕ) → map (λ c. 0 + c) xs ≡ xs
from_start [] = refl
from_start (x ∷ xs) =
    let e : 0 + x ≡ x = omega arith in ap (λ (y : ℕ). y ∷ map (λ c. 0 + c) xs) e ∙ ap (λ (ys : List ℕ). x ∷ ys) (from_start xs)

pub new_known : (types : List TypeDefinition) (access n : ℕ) → Some n ≡ number_reached types access → parts_from types 0 n ≡ new_parts types access
new_known types access n is =
    ap (λ (xs : List ℕ). map new_part xs) (from_start (firsts_in (firsts_up_to types (count_by has_parts types)) n))
    ∙ ap (λ (o : Option ℕ). map new_part (part_firsts types o)) is

pub none_new : (types : List TypeDefinition) (access : ℕ) → None ≡ number_reached types access → [] ≡ new_parts types access
none_new types access is = ap (λ (o : Option ℕ). map new_part (part_firsts types o)) is
