-- Where controlled parts begin: as many are listed of each record type as its objects have parts (7.6).

use Rattle.std.proofs.Common.{◌≡◌, ℕ, zero, suc, ◌+◌, Bool, true, false, ◌==◌, if◌then◌else◌, List, [], ◌∷◌, length, Option, Some, None, refl, sym, ap, ◌∙◌, arith}
use Rattle.std.specs.Prelude.{count_by}
use Rattle.std.specs.List.{flat_map, sum_by}
use Rattle.std.proofs.lemmas.Bool.{eqb-true}
use Rattle.std.proofs.lemmas.List.{length-append, length-map}
use Rattle.std.proofs.lemmas.List.Sums.{sum_by-append}
use Rattle.ada_parts.specs.Shape.{Shape, own_parts, parts_of}
use Rattle.ada_program.specs.declared.program.Part.{Part}
use Rattle.ada_program.specs.declared.program.PartKind.{PartKind}
use Rattle.ada_program.specs.declared.program.PartKind.TheVariants as part
use Rattle.ada_program.specs.declared.program.TypeDefinition.{TypeDefinition}
use Rattle.ada_program.specs.Controlled.{number_of, type_numbered, parts_by, has_parent, if_parts, with_parts, components_with_parts, shape_by, shapes_up_to, has_parts, shapes_of, firsts_in, firsts_from, firsts_of_kind, own_first, firsts_by, firsts_up_to, part_firsts}
use Rattle.ada_program.proofs.Shapes.{parts_for, shapes_length}

-- There are as many lists as numbers.
pub firsts_length : (types : List TypeDefinition) (n : ℕ) → length (firsts_up_to types n) ≡ n
firsts_length types zero = refl
firsts_length types (suc n) = let e = firsts_length types n in omega (arith, e)

-- Each type's list is as long as the count of its parts.
abbrev Alike : List (List ℕ) → List Shape → Type 0
Alike firsts shapes = (k : ℕ) → length (firsts_in firsts k) ≡ parts_of shapes k

if_some : (shapes : List Shape) (o : Option ℕ) → sum_by (parts_of shapes) (if_parts shapes o) ≡ parts_for shapes o
if_some shapes None = refl
if_some shapes (Some n) = go (parts_of shapes n == 0) refl
  where
    go : (b : Bool) → (parts_of shapes n == 0) ≡ b → sum_by (parts_of shapes) (if b then [] else n ∷ []) ≡ parts_of shapes n
    go true is = sym (eqb-true (parts_of shapes n) 0 is)
    go false is = omega arith

from_alike : (firsts : List (List ℕ)) (shapes : List Shape) (first : ℕ) (o : Option ℕ) → Alike firsts shapes → length (firsts_from firsts first o) ≡ parts_for shapes o
from_alike firsts shapes first None alike = refl
from_alike firsts shapes first (Some n) alike = length-map (firsts_in firsts n) (λ c. first + c) ∙ alike n

kind_alike : (types : List TypeDefinition) (firsts : List (List ℕ)) (shapes : List Shape) (first : ℕ) (kind : PartKind) → Alike firsts shapes
    → length (firsts_of_kind types firsts first kind) ≡ sum_by (parts_of shapes) (with_parts types shapes kind)
kind_alike types firsts shapes first (part.Elementary kind) alike = refl
kind_alike types firsts shapes first (part.Record t) alike =
    from_alike firsts shapes first (number_of types (Some t.0)) alike ∙ sym (if_some shapes (number_of types (Some t.0)))
kind_alike types firsts shapes first part.Parent alike = refl

all_alike : (types : List TypeDefinition) (firsts : List (List ℕ)) (shapes : List Shape) (ps : List Part) → Alike firsts shapes
    → length (flat_map (λ p. firsts_of_kind types firsts p.first.0 p.kind) ps) ≡ sum_by (parts_of shapes) (components_with_parts types shapes ps)
all_alike types firsts shapes [] alike = refl
all_alike types firsts shapes (p ∷ ps) alike =
    length-append (firsts_of_kind types firsts p.first.0 p.kind) (flat_map (λ q. firsts_of_kind types firsts q.first.0 q.kind) ps)
    ∙ ap (λ n. n + length (flat_map (λ q. firsts_of_kind types firsts q.first.0 q.kind) ps)) (kind_alike types firsts shapes p.first.0 p.kind alike)
    ∙ ap (λ n. sum_by (parts_of shapes) (with_parts types shapes p.kind) + n) (all_alike types firsts shapes ps alike)
    ∙ sym (sum_by-append (parts_of shapes) (with_parts types shapes p.kind) (components_with_parts types shapes ps))

own_alike : (b : Bool) → length (own_first b) ≡ (if b then 1 else 0)
own_alike true = refl
own_alike false = refl

by_alike : (types : List TypeDefinition) (firsts : List (List ℕ)) (shapes : List Shape) (ps : List Part) → Alike firsts shapes
    → length (firsts_by types firsts ps) ≡ own_parts (shape_by types shapes ps) + sum_by (parts_of shapes) (shape_by types shapes ps).components
by_alike types firsts shapes ps alike =
    length-append (own_first (has_parent ps)) (flat_map (λ p. firsts_of_kind types firsts p.first.0 p.kind) ps)
    ∙ ap (λ n. n + length (flat_map (λ p. firsts_of_kind types firsts p.first.0 p.kind) ps)) (own_alike (has_parent ps))
    ∙ ap (λ n. (if has_parent ps then 1 else 0) + n) (all_alike types firsts shapes ps alike)

pub alike_up_to : (types : List TypeDefinition) (n : ℕ) → Alike (firsts_up_to types n) (shapes_up_to types n)
alike_up_to types zero = λ k. refl
alike_up_to types (suc n) = λ k. go (alike_up_to types n) k
  where
    firsts : List (List ℕ)
    firsts = firsts_up_to types n

    shapes : List Shape
    shapes = shapes_up_to types n

    ps : List Part
    ps = parts_by (type_numbered types n)

    newest : Shape
    newest = shape_by types shapes ps

    by_bool : Alike firsts shapes → (k : ℕ) (b : Bool) → length (if b then firsts_by types firsts ps else firsts_in firsts k)
        ≡ (if b then own_parts newest + sum_by (parts_of shapes) newest.components else parts_of shapes k)
    by_bool known k true = by_alike types firsts shapes ps known
    by_bool known k false = known k

    same_place : (k : ℕ) → (k == length firsts) ≡ (k == length shapes)
    same_place k = ap (λ m. k == m) (firsts_length types n ∙ sym (shapes_length types n))

    go : Alike firsts shapes → (k : ℕ) → length (firsts_in (firsts_by types firsts ps ∷ firsts) k) ≡ parts_of (newest ∷ shapes) k
    go known k =
        ap (λ (b : Bool). length (if b then firsts_by types firsts ps else firsts_in firsts k)) (same_place k)
        ∙ by_bool known k (k == length shapes)

-- As many first components are listed as an object has parts.
pub as_many_firsts : (types : List TypeDefinition) (number : Option ℕ) → length (part_firsts types number) ≡ parts_for (shapes_of types) number
as_many_firsts types None = refl
as_many_firsts types (Some n) = alike_up_to types (count_by has_parts types) n
