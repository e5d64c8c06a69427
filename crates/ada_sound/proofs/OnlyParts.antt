-- Records with one controlled part (7.6): it lies in one place alone, and where the record is controlled itself, no component of it has controlled parts.

use Rattle.std.proofs.Common.{◌≡◌, ℕ, zero, suc, ◌+◌, ◌<◌, ◌≤◌, ◌==◌, Bool, true, false, ◌&&◌, ◌||◌, List, [], ◌∷◌, Option, Some, None, arith, refl, ap, subst}
use Rattle.std.specs.Prelude.{nat_lt}
use Rattle.std.specs.List.{list_all, slice_get}
use Rattle.std.proofs.lemmas.Bool.{and_parts, eqb-true, ltb-true}
use Rattle.ada_program.specs.declared.program.ComponentKind.{ComponentKind}
use Rattle.ada_program.specs.declared.program.Finalization.{Finalization}
use Rattle.ada_program.specs.Controlled.{number_in}
use Rattle.ada_program.specs.ProgramForm.{PartForm, TypeForm, record_of, access_to, object_of}
use Rattle.ada_program.specs.Walks.{Walks, ends, into}
use Rattle.ada_program.specs.WellFormed.{kind_fits, finalization_in, finalization_of, count_said, part_count, parts_within, is_parent, is_of_earlier, parts_in_order, parent_first, says_parts, is_numbered_alone, type_fits}
use Rattle.ada_typed.proofs.Parts.{shows_parent}

-- A record type that is controlled itself, not only by what lies in it (7.6): it has the parent part.
pub record IsControlled (types : List TypeForm) (t : ℕ) : Type 0 where
  pub name : List ℕ
  pub parts : List PartForm
  pub components : List ComponentKind
  pub finalization : Finalization
  pub declared : slice_get types t ≡ Some (record_of name parts components (Some finalization))
  pub own : shows_parent parts ≡ true

-- What each element passes, the one of a number does.
pub passed_at : {X : Type 0} (test : X → Bool) (xs : List X) (i : ℕ) (x : X) → list_all test xs ≡ true → slice_get xs i ≡ Some x → test x ≡ true
passed_at test [] i x all at = absurd (cc at)
passed_at {X = X} test (y ∷ ys) zero x all at =
    let one : y ≡ x = cc at in
    subst (λ (z : X). test z ≡ true) one (and_parts (test y) (list_all test ys) all).0
passed_at test (y ∷ ys) (suc i) x all at = passed_at test ys i x (and_parts (test y) (list_all test ys) all).1 at

-- Where declared components are numbered in order, the controlled parts of each are among those that are counted.
upwards : (types : List TypeForm) (count from : ℕ) (ps : List PartForm) → parts_in_order types count from ps ≡ true → from ≤ count
upwards types count from [] ordered = let same = eqb-true from count ordered in omega (arith, same)
upwards types count from (q ∷ ps) ordered =
    let later = parts_in_order types count (from + parts_within types q.kind) ps in
    let more = upwards types count (from + parts_within types q.kind) ps (and_parts (q.part == from) later ordered).1 in
    omega (arith, more)

pub counted_at :
    (types : List TypeForm) (count from : ℕ) (ps : List PartForm) (i : ℕ) (p : PartForm) → parts_in_order types count from ps ≡ true → slice_get ps i ≡ Some p
    → (from ≤ p.part) × (p.part + parts_within types p.kind ≤ count)
counted_at types count from [] i p ordered at = absurd (cc at)
counted_at types count from (q ∷ ps) zero p ordered at =
    let one : q ≡ p = cc at in
    let both = and_parts (q.part == from) (parts_in_order types count (from + parts_within types q.kind) ps) ordered in
    let here = eqb-true q.part from both.0 in
    let more = upwards types count (from + parts_within types q.kind) ps both.1 in
    subst (λ (r : PartForm). (from ≤ r.part) × (r.part + parts_within types r.kind ≤ count)) one (omega (arith, here), omega (arith, here, more))
counted_at types count from (q ∷ ps) (suc i) p ordered at =
    let both = and_parts (q.part == from) (parts_in_order types count (from + parts_within types q.kind) ps) ordered in
    let later = counted_at types count (from + parts_within types q.kind) ps i p both.1 at in
    let least = later.0 in
    (omega (arith, least), later.1)

-- A parent part is one of the declared components.
pub parent_at : (ps : List PartForm) → shows_parent ps ≡ true → (i : ℕ) × (p : PartForm) × (slice_get ps i ≡ Some p) × (is_parent p.kind ≡ true)
parent_at [] own = absurd (cc own)
parent_at (p ∷ ps) own = go (parent_at ps) (is_parent p.kind) refl own
  where
    go : (shows_parent ps ≡ true → (i : ℕ) × (q : PartForm) × (slice_get ps i ≡ Some q) × (is_parent q.kind ≡ true))
        → (b : Bool) → is_parent p.kind ≡ b → (b || shows_parent ps) ≡ true
        → (i : ℕ) × (q : PartForm) × (slice_get (p ∷ ps) i ≡ Some q) × (is_parent q.kind ≡ true)
    go later true is own = (0, p, refl, is)
    go later false is own = let found = later own in (suc found.0, found.1, found.2, found.3)

module _ (types : List TypeForm) (fit : list_all (type_fits types) types ≡ true) where
  -- What a record type says of its controlled parts.
  said : (t : ℕ) (name : List ℕ) (ps : List PartForm) (components : List ComponentKind) (o : Option Finalization)
      → slice_get types t ≡ Some (record_of name ps components o) → says_parts types o ps ≡ true
  said t name ps components o at =
      let kinds = list_all (kind_fits types) components in
      let all = passed_at (type_fits types) types t (record_of name ps components o) fit at in
      let front = (and_parts (kinds && parent_first ps && says_parts types o ps) (is_numbered_alone types o) all).0 in
      (and_parts (kinds && parent_first ps) (says_parts types o ps) front).1

  pub in_order : (t : ℕ) (name : List ℕ) (ps : List PartForm) (components : List ComponentKind) (o : Option Finalization)
      → slice_get types t ≡ Some (record_of name ps components o) → parts_in_order types (count_said o) 0 ps ≡ true
  in_order t name ps components None at = said t name ps components None at
  in_order t name ps components (Some f) at =
      let some = nat_lt 0 f.parts in
      let ordered = parts_in_order types f.parts 0 ps in
      let earlier = list_all (λ p. is_of_earlier types f.number.0 p.kind) ps in
      (and_parts some ordered (and_parts (some && ordered) earlier (said t name ps components (Some f) at)).0).1

  pub counts : (t : ℕ) (name : List ℕ) (ps : List PartForm) (components : List ComponentKind) (f : Finalization)
      → slice_get types t ≡ Some (record_of name ps components (Some f)) → 0 < f.parts
  counts t name ps components f at =
      let some = nat_lt 0 f.parts in
      let ordered = parts_in_order types f.parts 0 ps in
      let earlier = list_all (λ p. is_of_earlier types f.number.0 p.kind) ps in
      ltb-true 0 f.parts (and_parts some ordered (and_parts (some && ordered) earlier (said t name ps components (Some f) at)).0).0

  -- A record type that has a number among those with controlled parts has some; one that has none has no number.
  pub numbered_counts : (t m : ℕ) → number_in (finalization_of types t) ≡ Some m → 0 < part_count types t
  numbered_counts t m is = go (slice_get types t) refl is
    where
      go : (o : Option TypeForm) → slice_get types t ≡ o → number_in (finalization_in o) ≡ Some m → 0 < count_said (finalization_in o)
      go None at is = absurd (cc is)
      go (Some (record_of name ps components None)) at is = absurd (cc is)
      go (Some (record_of name ps components (Some f))) at is = counts t name ps components f at
      go (Some (access_to name designated pool)) at is = absurd (cc is)
      go (Some (object_of record_type)) at is = absurd (cc is)

  pub uncounted : (t : ℕ) → part_count types t ≡ 0 → finalization_of types t ≡ None
  uncounted t none = go (slice_get types t) refl none
    where
      go : (o : Option TypeForm) → slice_get types t ≡ o → count_said (finalization_in o) ≡ 0 → finalization_in o ≡ None
      go None at none = refl
      go (Some (record_of name ps components None)) at none = refl
      go (Some (record_of name ps components (Some f))) at none = let some = counts t name ps components f at in absurd (omega (arith, some, none))
      go (Some (access_to name designated pool)) at none = refl
      go (Some (object_of record_type)) at none = refl

  -- One that is controlled itself has some.
  pub controlled_counts : (t : ℕ) → IsControlled types t → 0 < part_count types t
  controlled_counts t c =
      rw (ap (λ (o : Option TypeForm). count_said (finalization_in o)) c.declared) (counts t c.name c.parts c.components c.finalization c.declared)

  -- The parts of a record that lies in another are among those of the other.
  pub walked_counts : (t first k u : ℕ) → Walks types t first k u → k + part_count types u ≤ part_count types t
  walked_counts t _ _ _ ends = omega arith
  walked_counts t _ _ u (into i first k _ m name ps components f p v at there is known walks) =
      let inside = walked_counts v.0 first k u walks in
      let own = (counted_at types f.parts 0 ps i p (in_order t name ps components (Some f) at) there).1 in
      let within : parts_within types p.kind ≡ part_count types v.0 = ap (parts_within types) is in
      let count : part_count types t ≡ f.parts = ap (λ (o : Option TypeForm). count_said (finalization_in o)) at in
      omega (arith, inside, own, within, count)
