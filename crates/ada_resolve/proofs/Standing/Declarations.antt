-- Declarations, one after another, and the end of a part's types.

use Rattle.std.proofs.Common.{◌≡◌, ℕ, Bool, true, false, cond, List, [], ◌∷◌, refl}
use Rattle.std.specs.Prelude.{Some, bytes_eq, map}
use Rattle.ada_text.specs.declared.spot.Spot.{Spot}
use Rattle.ada_program.specs.declared.program.TypeNo.{TypeNo}
use Rattle.ada_resolve.specs.declared.fault.NameRule.TheVariants.{BodyMissing}
use Rattle.ada_resolve.specs.declared.scope.Entity.TheVariants as entity
use Rattle.ada_resolve.specs.Known.{Known, Named, named, types_go_on}
use Rattle.ada_resolve.specs.Objects.{ends_types, after_types}
use Rattle.ada_resolve.specs.Resolution.{gives, is_incomplete, some_incomplete, entity_in, begin_remark}
use Rattle.ada_resolve.proofs.WellFormed.Remarks.{Quiet, quiet_if}
use Rattle.ada_resolve.proofs.WellFormed.Tables.{left_fails, right_fails}
use Rattle.ada_resolve.proofs.Standing.Order.{Complete}

-- nothing is given but what was
pub gives_same : {X : Type 0} {x y : X} → gives x ≡ gives y → x ≡ y
gives_same e = cc e

-- where no type of a list is incomplete, no name stands for one
none_open : (ns : List Named) (text : List ℕ) (t : TypeNo) → some_incomplete (map entity_in ns) ≡ false → named text ns ≡ Some (entity.Incomplete t) → ⊥
none_open [] text t off is = cc is
none_open (n ∷ ns) text t off is =
    by_text (bytes_eq text n.text) (none_open ns text t (right_fails (is_incomplete n.entity) (some_incomplete (map entity_in ns)) off)) is
  where
    not_this : n.entity ≡ entity.Incomplete t → ⊥
    not_this same = let no : is_incomplete n.entity ≡ false = left_fails (is_incomplete n.entity) (some_incomplete (map entity_in ns)) off in
        let yes : is_incomplete n.entity ≡ true = rw same refl in cc (no, yes)

    by_text : (b : Bool) → (named text ns ≡ Some (entity.Incomplete t) → ⊥) → cond b (Some n.entity) (named text ns) ≡ Some (entity.Incomplete t) → ⊥
    by_text true rest there = not_this (cc there)
    by_text false rest there = rest there

-- no type is incomplete behind `begin`
pub begin_open : (k : Known) (spot : Spot) → Quiet (begin_remark k spot) → Complete k
begin_open k spot q text t is = none_open k.here.names text t (quiet_if (some_incomplete (map entity_in k.here.names)) spot BodyMissing q.0) is

ends_complete : (b : Bool) (k : Known) → Complete k → Complete (ends_types b k)
ends_complete true k c = c
ends_complete false k c = c

pub begin_complete : (k : Known) (spot : Spot) → Quiet (begin_remark k spot) → Complete (after_types k)
unfolding after_types
begin_complete k spot q = ends_complete (types_go_on k) k (begin_open k spot q)
