-- Records that are copied, and where they come from (5.2, 7.6): what the copy names, the original names.

use Rattle.std.proofs.Common.{◌≡◌, ◌≢◌, ℕ, zero, suc, ◌+◌, ◌<◌, List, [], ◌∷◌, length, refl, sym, ap, subst, ◌∙◌, ◌⊎◌, inl, inr, arith}
use Rattle.std.specs.Prelude.{Some}
use Rattle.std.specs.List.{slice_get, slice_set}
use Rattle.ada_program.specs.ProgramForm.{TypeForm}
use Rattle.ada_program.specs.WellFormed.{object_named, record_components}
use Rattle.ada_quiet.specs.InUse.{count_found}
use Rattle.ada_meaning.specs.declared.state.Id.{Id}
use Rattle.ada_meaning.specs.declared.state.Value.{Value}
use Rattle.ada_meaning.specs.declared.state.Value.TheVariants.{Names}
use Rattle.ada_meaning.specs.Step.{stored_from}
use Rattle.ada_meaning.specs.Named.{Object, object_at, filled, named, store}
use Rattle.ada_owners.specs.Places.{is_there}
use Rattle.ada_owners.proofs.Changes.{store_is}
use Rattle.ada_owners.proofs.Kernel.{same_id}
use Rattle.ada_typed.specs.Holding.{PartsLie}
use Rattle.ada_sound.proofs.Objects.{set_get, set_here, set_other}
use Rattle.ada_sound.proofs.CopiedOwners.{AreCopied, CopiedFrom, IsElsewhere, LiesOutside, Original}

-- The object that a name has, once values are stored in its components, from one on.
pub record IsStored (x : Object) (c : ℕ) (vs : List Value) (y : Object) : Type 0 where
  pub access : y.cell.access ≡ x.cell.access
  pub stage : y.stage ≡ x.stage
  -- other components hold what they held
  pub others : (d : ℕ) → LiesOutside c (length vs) d → slice_get y.cell.values d ≡ slice_get x.cell.values d
  -- these hold the values
  pub these : (i : ℕ) (v : Value) → i < length vs → slice_get y.cell.values (c + i) ≡ Some v → slice_get vs i ≡ Some v

some_same : {x y : Object} → Some x ≡ Some y → x ≡ y
some_same e = cc e

-- An element of a list that is set, and others.
set_at : (vs : List Value) (c : ℕ) (v w : Value) → slice_get (slice_set vs c v) c ≡ Some w → v ≡ w
set_at vs c v w at = elim (set_get vs c c v w at) [ inl here ↦ sym here.1 | inr there ↦ absurd (there.0 refl) ]

pub stored_here :
    (heap : List Object) (o : Id) (x : Object) (c : ℕ) (vs : List Value) → object_at heap o ≡ Some x → (y : Object)
    → object_at (stored_from named heap (Names o) c vs) o ≡ Some y → IsStored x c vs y
stored_here heap o x c [] found y there =
    let same : x ≡ y = some_same (sym found ∙ there) in
    subst (IsStored x c []) same (record { access = refl; stage = refl; others = λ d outside. refl; these = λ i v less at. absurd (omega (arith, less)) })
stored_here heap o x c (v ∷ vs) found y there =
    let one = store_is heap o x found c v in
    let at_o : object_at (store heap (Names o) c v) o ≡ Some (filled c v x) = ap (λ (h : List Object). object_at h o) one ∙ set_here heap o.0 x (filled c v x) found in
    let later = stored_here (store heap (Names o) c v) o (filled c v x) (c + 1) vs at_o y there in
    record {
      access = later.access;
      stage = later.stage;
      others = λ d outside. later.others d (behind c d (length vs) outside) ∙ set_other x.cell.values c d v (apart c d (length vs) outside);
      these = λ i w less at. by i w less at later;
    }
  where
    behind : (n d count : ℕ) → LiesOutside n (suc count) d → LiesOutside (n + 1) count d
    behind n d count (inl less) = inl (omega (arith, less))
    behind n d count (inr more) = inr (omega (arith, more))

    apart : (n d count : ℕ) → LiesOutside n (suc count) d → d ≢ n
    apart n d count (inl less) same = absurd (omega (arith, less, same))
    apart n d count (inr more) same = absurd (omega (arith, more, same))

    by : (i : ℕ) (w : Value) → i < suc (length vs) → slice_get y.cell.values (c + i) ≡ Some w → IsStored (filled c v x) (c + 1) vs y → slice_get (v ∷ vs) i ≡ Some w
    by zero w less at later =
        let here : c + 0 ≡ c = omega arith in
        let kept = later.others c (inl (omega arith)) in
        let first : slice_get (slice_set x.cell.values c v) c ≡ Some w = sym kept ∙ ap (λ (n : ℕ). slice_get y.cell.values n) (sym here) ∙ at in
        ap Some (set_at x.cell.values c v w first)
    by (suc i) w less at later =
        let next : c + suc i ≡ (c + 1) + i = omega arith in
        later.these i w (omega (arith, less)) (ap (λ (n : ℕ). slice_get y.cell.values n) (sym next) ∙ at)

-- Other objects stay.
pub stored_there :
    (heap : List Object) (o q : Id) (x : Object) (c : ℕ) (vs : List Value) → object_at heap o ≡ Some x → q.0 ≢ o.0
    → object_at (stored_from named heap (Names o) c vs) q ≡ object_at heap q
stored_there heap o q x c [] found ne = refl
stored_there heap o q x c (v ∷ vs) found ne =
    let one = store_is heap o x found c v in
    let at_o : object_at (store heap (Names o) c v) o ≡ Some (filled c v x) = ap (λ (h : List Object). object_at h o) one ∙ set_here heap o.0 x (filled c v x) found in
    stored_there (store heap (Names o) c v) o q (filled c v x) (c + 1) vs at_o ne
    ∙ (ap (λ (h : List Object). object_at h q) one ∙ set_other heap o.0 q.0 (filled c v x) ne)

-- So a record of an object is a copy of another one, once it has its values.
pub copied_stored :
    (types : List TypeForm) (heap : List Object) (t : ℕ) (vs : List Value) (original : Original types heap t vs) (o : Id) (x : Object) (to : ℕ) (owners : List ℕ)
    → object_at heap o ≡ Some x → IsElsewhere types heap t vs original (Names o) to → (y : Object)
    → object_at (stored_from named heap (Names o) to vs) o ≡ Some y → CopiedFrom types (stored_from named heap (Names o) to vs) o t to owners y.cell.values
copied_stored types heap t vs original o x to owners found elsewhere y at_o = by (same_id original.source o)
  where
    stored : IsStored x to vs y
    stored = stored_here heap o x to vs found y at_o

    counted : (d : ℕ) → d < count_found (record_components types t) → d < length vs
    counted d less = let many = original.counted in omega (arith, less, many)

    from_these : (d : ℕ) (p : Id) → d < count_found (record_components types t) → slice_get y.cell.values (to + d) ≡ Some (Names p)
        → slice_get original.object.cell.values (original.first + d) ≡ Some (Names p)
    from_these d p less at = original.holds d (Names p) (stored.these d (Names p) (counted d less) at)

    by : (original.source ≡ o) ⊎ (original.source ≢ o) → CopiedFrom types (stored_from named heap (Names o) to vs) o t to owners y.cell.values
    by (inr ne) = record {
      source = original.source;
      first = original.first;
      part = original.part;
      object = original.object;
      found =
          stored_there heap o original.source x to vs found (λ same. ne (ap (λ (n : ℕ). record { 0 = n }) same)) ∙ original.found;
      there = original.there;
      lies = original.lies;
      elsewhere = λ same. absurd (ne (sym same));
      holds = λ d p has less outside at. from_these d p less at;
    }
    by (inl same) =
        let one : original.object ≡ x = some_same (sym original.found ∙ ap (object_at heap) same ∙ found) in
        record {
          source = o;
          first = original.first;
          part = original.part;
          object = y;
          found = at_o;
          there = ap is_there stored.stage ∙ ap (λ (z : Object). is_there z.stage) (sym one) ∙ original.there;
          lies =
              subst (λ (access : ℕ). PartsLie types (object_named types (Some access)) (Some t) original.first original.part)
              (ap (λ (z : Object). z.cell.access) one ∙ sym stored.access) original.lies;
          elsewhere = λ itself. elsewhere (ap Names (sym same));
          holds = λ d p has less outside at.
              let many = original.counted in
              let free : LiesOutside to (length vs) (original.first + d) = subst (λ (n : ℕ). LiesOutside to n (original.first + d)) (sym many) (outside refl) in
              stored.others (original.first + d) free ∙ ap (λ (z : Object). slice_get z.cell.values (original.first + d)) (sym one) ∙ from_these d p less at;
        }

-- Where the object to which a record was copied changes, and stays of its type and in its stage, the record is a copy still, if components name what they named.
pub copied_changed :
    (types : List TypeForm) (heap : List Object) (o : Id) (x y : Object) → object_at heap o ≡ Some x → y.cell.access ≡ x.cell.access → y.stage ≡ x.stage
    → ((c : ℕ) (p : Id) → slice_get y.cell.values c ≡ Some (Names p) → slice_get x.cell.values c ≡ Some (Names p))
    → ((c : ℕ) (p : Id) → slice_get x.cell.values c ≡ Some (Names p) → slice_get y.cell.values c ≡ Some (Names p))
    → (r to : ℕ) (owners : List ℕ) → AreCopied types heap o r to owners x.cell.values → AreCopied types (slice_set heap o.0 y) o r to owners y.cell.values
copied_changed types heap o x y found access stage back still r to owners (inl none) = inl none
copied_changed types heap o x y found access stage back still r to owners (inr copied) = inr (by (same_id copied.source o))
  where
    by : (copied.source ≡ o) ⊎ (copied.source ≢ o) → CopiedFrom types (slice_set heap o.0 y) o r to owners y.cell.values
    by (inr ne) = record {
      source = copied.source;
      first = copied.first;
      part = copied.part;
      object = copied.object;
      found = set_other heap o.0 copied.source.0 y (λ same. ne (ap (λ (n : ℕ). record { 0 = n }) same)) ∙ copied.found;
      there = copied.there;
      lies = copied.lies;
      elsewhere = copied.elsewhere;
      holds = λ d p has less outside at. copied.holds d p has less outside (back (to + d) p at);
    }
    by (inl same) =
        let one : copied.object ≡ x = some_same (sym copied.found ∙ ap (object_at heap) same ∙ found) in
        record {
          source = o;
          first = copied.first;
          part = copied.part;
          object = y;
          found = set_here heap o.0 x y found;
          there = ap is_there stage ∙ ap (λ (z : Object). is_there z.stage) (sym one) ∙ copied.there;
          lies =
              subst (λ (n : ℕ). PartsLie types (object_named types (Some n)) (Some r) copied.first copied.part)
              (ap (λ (z : Object). z.cell.access) one ∙ sym access) copied.lies;
          elsewhere = λ itself. copied.elsewhere (sym same);
          holds = λ d p has less outside at.
              still (copied.first + d) p
              (ap (λ (z : Object). slice_get z.cell.values (copied.first + d)) (sym one)
              ∙ copied.holds d p has less (λ itself. outside refl) (back (to + d) p at));
        }
