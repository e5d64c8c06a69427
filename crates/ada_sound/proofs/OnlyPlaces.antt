-- Where the one controlled part of a record lies that itself lies in an object (7.6): what has a controlled part of the record lies in the record.

use Rattle.std.proofs.Common.{◌≡◌, ◌≢◌, ℕ, zero, suc, ◌+◌, ◌<◌, ◌≤◌, ◌==◌, Bool, true, false, ◌&&◌, ◌||◌, List, [], ◌∷◌, length, Option, Some, None, inl, inr, arith, refl, sym, ap, ◌∙◌, subst, ◌⊎◌}
use Rattle.std.specs.Prelude.{not, nat_lt, count_by, find}
use Rattle.std.specs.List.{list_all, slice_get}
use Rattle.std.proofs.lemmas.Bool.{and_parts, eqb-true, ltb-true, cases_lt}
use Rattle.std.proofs.lemmas.Bool.Decides.{eqb_tells}
use Rattle.std.proofs.lemmas.Grind.{common_steps}
use Rattle.ada_parts.specs.Shape.{Shape, shape_of}
use Rattle.ada_parts.proofs.Facts.{eq_self}
use Rattle.ada_parts.proofs.Tables.{shape_newest, shape_older}
use Rattle.ada_program.specs.declared.program.ComponentKind.{ComponentKind}
use Rattle.ada_program.specs.declared.program.Finalization.{Finalization}
use Rattle.ada_program.specs.declared.program.PartKind.{PartKind}
use Rattle.ada_program.specs.declared.program.PartKind.TheVariants as part
use Rattle.ada_program.specs.declared.program.TypeNo.{TypeNo}
use Rattle.ada_program.specs.Controlled.{number_in}
use Rattle.ada_program.specs.ProgramForm.{PartForm, TypeForm, record_of, access_to, object_of}
use Rattle.ada_program.specs.Walks.{Walks, ends, into}
use Rattle.ada_program.specs.WellFormed.{kind_fits, finalization_in, part_count, parts_within, is_parent, parts_in_order, parent_first, says_parts, has_number, numbered_types, is_numbered_alone, type_fits}
use Rattle.ada_typed.specs.Holding.{WalksTo}
use Rattle.ada_typed.proofs.Parts.{shows_parent, shown_number, shown_shape, shown_parts, shown_numbered, shown_up_to, shown_shapes}
use Rattle.ada_sound.proofs.OnlyParts.{IsControlled, passed_at, counted_at, in_order, controlled_counts, walked_counts}

-- Declared components that have one controlled part in common are one.
shared_part :
    (types : List TypeForm) (count from : ℕ) (ps : List PartForm) (i j n : ℕ) (p q : PartForm) → parts_in_order types count from ps ≡ true
    → slice_get ps i ≡ Some p
    → slice_get ps j ≡ Some q → p.part ≤ n → n < p.part + parts_within types p.kind → q.part ≤ n → n < q.part + parts_within types q.kind → p ≡ q
shared_part types count from [] i j n p q ordered at there low high least most = absurd (cc at)
shared_part types count from (r ∷ ps) zero zero n p q ordered at there low high least most = cc (at, there)
shared_part types count from (r ∷ ps) zero (suc j) n p q ordered at there low high least most =
    let one : r ≡ p = cc at in
    let both = and_parts (r.part == from) (parts_in_order types count (from + parts_within types r.kind) ps) ordered in
    let here = eqb-true r.part from both.0 in
    let later = (counted_at types count (from + parts_within types r.kind) ps j q both.1 there).0 in
    let end : n < r.part + parts_within types r.kind = subst (λ (s : PartForm). n < s.part + parts_within types s.kind) (sym one) high in
    absurd (omega (arith, here, later, end, least))
shared_part types count from (r ∷ ps) (suc i) zero n p q ordered at there low high least most =
    let one : r ≡ q = cc there in
    let both = and_parts (r.part == from) (parts_in_order types count (from + parts_within types r.kind) ps) ordered in
    let here = eqb-true r.part from both.0 in
    let later = (counted_at types count (from + parts_within types r.kind) ps i p both.1 at).0 in
    let end : n < r.part + parts_within types r.kind = subst (λ (s : PartForm). n < s.part + parts_within types s.kind) (sym one) most in
    absurd (omega (arith, here, later, end, low))
shared_part types count from (r ∷ ps) (suc i) (suc j) n p q ordered at there low high least most =
    shared_part types count (from + parts_within types r.kind) ps i j n p q
    (and_parts (r.part == from) (parts_in_order types count (from + parts_within types r.kind) ps) ordered).1 at there low high least most

-- Behind the parent part, which is the first one, no declared component has the first controlled part.
no_parent : (ps : List PartForm) → list_all (λ q. not (is_parent q.kind)) ps ≡ true → shows_parent ps ≡ false
no_parent [] none = refl
no_parent (p ∷ ps) none =
    let both = and_parts (not (is_parent p.kind)) (list_all (λ q. not (is_parent q.kind)) ps) none in
    go (is_parent p.kind) both.0 (no_parent ps both.1)
  where
    go : (b : Bool) → not b ≡ true → shows_parent ps ≡ false → (b || shows_parent ps) ≡ false
    go true e later = absurd (cc e)
    go false e later = later

pub behind_parent :
    (types : List TypeForm) (count : ℕ) (ps : List PartForm) (i : ℕ) (p : PartForm) (v : TypeNo) → parent_first ps ≡ true
    → parts_in_order types count 0 ps ≡ true
    → shows_parent ps ≡ true → slice_get ps i ≡ Some p → p.kind ≡ part.Record v → 0 < p.part
behind_parent types count [] i p v first ordered own at is = absurd (cc at)
behind_parent types count (q ∷ ps) i p v first ordered own at is = go q.kind refl i at
  where
    rest : parts_in_order types count (0 + parts_within types q.kind) ps ≡ true
    rest = (and_parts (q.part == 0) (parts_in_order types count (0 + parts_within types q.kind) ps) ordered).1

    plain : is_parent q.kind ≡ false → 0 < p.part
    plain none =
        let some : (is_parent q.kind || shows_parent ps) ≡ true = own in
        absurd (cc (subst (λ (b : Bool). (b || shows_parent ps) ≡ true) none some, no_parent ps first))

    go : (kind : PartKind) → q.kind ≡ kind → (n : ℕ) → slice_get (q ∷ ps) n ≡ Some p → 0 < p.part
    go (part.Elementary kind) same n at = plain (ap is_parent same)
    go (part.Record u) same n at = plain (ap is_parent same)
    go part.Parent same zero at =
        let one : q ≡ p = cc at in
        let kinds : part.Parent ≡ part.Record v = sym same ∙ ap (λ (r : PartForm). r.kind) one ∙ is in
        absurd (cc kinds)
    go part.Parent same (suc n) at =
        let one : parts_within types q.kind ≡ 1 = ap (parts_within types) same in
        let least = (counted_at types count (0 + parts_within types q.kind) ps n p rest at).0 in
        omega (arith, one, least)

-- There is a shape for each of so many numbers.
pub shown_length : (types : List TypeForm) (count : ℕ) → length (shown_up_to types count) ≡ count
shown_length types zero = refl
shown_length types (suc count) = ap suc (shown_length types count)

-- The type that has this number, as finalization sees it where those with less numbers are known.
abbrev pub shape_numbered : List TypeForm → (older : List Shape) → ℕ → Shape
shape_numbered types older n = shown_shape types older (shown_parts (shown_numbered types n))

-- The shape of a type with a number is that which its declared components show.
pub shape_at : (types : List TypeForm) (count n : ℕ) → n < count → shape_of (shown_up_to types count) n ≡ shape_numbered types (shown_up_to types n) n
shape_at types zero n below = absurd (omega (arith, below))
shape_at types (suc count) n below = elim (eqb_tells n count) [ inl h ↦ newest h.1 | inr h ↦ older h.1 (λ less. shape_at types count n less) ]
  where
    own : Shape
    own = shape_numbered types (shown_up_to types count) count

    newest : n ≡ count → shape_of (own ∷ shown_up_to types count) n ≡ shape_numbered types (shown_up_to types n) n
    newest same =
        ap (shape_of (own ∷ shown_up_to types count)) (same ∙ sym (shown_length types count)) ∙ shape_newest own (shown_up_to types count)
        ∙ ap (λ (m : ℕ). shape_numbered types (shown_up_to types m) m) (sym same)

    older :
        n ≢ count → (n < count → shape_of (shown_up_to types count) n ≡ shape_numbered types (shown_up_to types n) n)
        → shape_of (own ∷ shown_up_to types count) n ≡ shape_numbered types (shown_up_to types n) n
    older apart more =
        shape_older own (shown_up_to types count) n (λ e. apart (e ∙ shown_length types count)) ∙ more (omega (arith, below, apart))

-- What passes a test alone is what is found.
passes_some : {X : Type 0} (test : X → Bool) (xs : List X) (t : ℕ) (x : X) → slice_get xs t ≡ Some x → test x ≡ true → 0 < count_by test xs
passes_some test [] t x at does = absurd (cc at)
passes_some test (y ∷ ys) zero x at does = grind (arith, common_steps)
passes_some test (y ∷ ys) (suc t) x at does = let more = passes_some test ys t x at does in grind (arith, common_steps, more)

pub found_one : {X : Type 0} (test : X → Bool) (xs : List X) (t : ℕ) (x : X) → count_by test xs ≡ 1 → slice_get xs t ≡ Some x → test x ≡ true
    → find test xs ≡ Some x
found_one test [] t x one at does = absurd (cc at)
found_one test (y ∷ ys) zero x one at does = grind (arith, common_steps)
found_one test (y ∷ ys) (suc t) x one at does =
    let some = passes_some test ys t x at does in
    let again = found_one test ys t x in
    grind (arith, common_steps, some, again)

module _ (types : List TypeForm) (fit : list_all (type_fits types) types ≡ true) where
  -- The number of a type with controlled parts is its alone, and one of so many.
  pub alone_said :
      (t : ℕ) (name : List ℕ) (ps : List PartForm) (components : List ComponentKind) (f : Finalization)
      → slice_get types t ≡ Some (record_of name ps components (Some f))
      → (f.number.0 < numbered_types types) × (count_by (λ u. has_number f.number.0 (finalization_in (Some u))) types ≡ 1)
  alone_said t name ps components f at =
      let all = passed_at (type_fits types) types t (record_of name ps components (Some f)) fit at in
      let front = list_all (kind_fits types) components && parent_first ps && says_parts types (Some f) ps in
      let last = (and_parts front (is_numbered_alone types (Some f)) all).1 in
      let both = and_parts (nat_lt f.number.0 (numbered_types types)) (count_by (λ u. has_number f.number.0 (finalization_in (Some u))) types == 1) last in
      (ltb-true f.number.0 (numbered_types types) both.0, eqb-true (count_by (λ u. has_number f.number.0 (finalization_in (Some u))) types) 1 both.1)

  pub parents_first :
      (t : ℕ) (name : List ℕ) (ps : List PartForm) (components : List ComponentKind) (o : Option Finalization)
      → slice_get types t ≡ Some (record_of name ps components o)
      → parent_first ps ≡ true
  parents_first t name ps components o at =
      let kinds = list_all (kind_fits types) components in
      let all = passed_at (type_fits types) types t (record_of name ps components o) fit at in
      let front = (and_parts (kinds && parent_first ps && says_parts types o ps) (is_numbered_alone types o) all).0 in
      (and_parts kinds (parent_first ps) (and_parts (kinds && parent_first ps) (says_parts types o ps) front).0).1

  shape_said :
      (t : ℕ) (name : List ℕ) (ps : List PartForm) (components : List ComponentKind) (f : Finalization)
      → slice_get types t ≡ Some (record_of name ps components (Some f))
      → (shape_of (shown_shapes types) f.number.0).controlled ≡ shows_parent ps
  shape_said t name ps components f at =
      let said = alone_said t name ps components f at in
      let form = record_of name ps components (Some f) in
      let found = found_one (λ u. has_number f.number.0 (finalization_in (Some u))) types t form said.1 at (eq_self f.number.0) in
      ap (λ (s : Shape). s.controlled) (shape_at types (numbered_types types) f.number.0 said.0) ∙ ap (λ (o : Option TypeForm). shows_parent (shown_parts o)) found

  -- So a type whose operations a treatment performs is controlled itself, and a treatment performs those of each one that is.
  pub controlled_as_shown :
      (t of : ℕ) → shown_number types (Some t) ≡ Some of → (shape_of (shown_shapes types) of).controlled ≡ true → IsControlled types t
  controlled_as_shown t of is shown = go (slice_get types t) refl is
    where
      go : (o : Option TypeForm) → slice_get types t ≡ o → number_in (finalization_in o) ≡ Some of → IsControlled types t
      go None at said = absurd (cc said)
      go (Some (record_of name ps components None)) at said = absurd (cc said)
      go (Some (record_of name ps components (Some f))) at said =
          let number : f.number.0 ≡ of = cc said in
          record {
            name = name;
            parts = ps;
            components = components;
            finalization = f;
            declared = at;
            own = sym (shape_said t name ps components f at) ∙ ap (λ (n : ℕ). (shape_of (shown_shapes types) n).controlled) number ∙ shown;
          }
      go (Some (access_to name designated pool)) at said = absurd (cc said)
      go (Some (object_of record_type)) at said = absurd (cc said)

  pub shown_as_controlled :
      (t : ℕ) (c : IsControlled types t)
      → (shown_number types (Some t) ≡ Some c.finalization.number.0) × ((shape_of (shown_shapes types) c.finalization.number.0).controlled ≡ true)
  shown_as_controlled t c = (
    ap (λ (o : Option TypeForm). number_in (finalization_in o)) c.declared,
    shape_said t c.name c.parts c.components c.finalization c.declared ∙ c.own,
  )

  -- A record that is controlled itself and is a controlled part of a record that lies in another with it lies in that record.
  pub record Within (t first k u other l : ℕ) : Type 0 where
    pub before : ℕ
    pub number : ℕ
    pub walk : Walks types t before number u
    pub first_so : other ≡ first + before
    pub part_so : l ≡ k + number

  pub lies_within :
      (a first k t other l u : ℕ) → IsControlled types u → Walks types a first k t → Walks types a other l u → k ≤ l → l < k + part_count types t
      → Within t first k u other l
  lies_within a _ _ _ other l u c ends walks low high =
      record { before = other; number = l; walk = walks; first_so = omega arith; part_so = omega arith }
  lies_within a _ _ t other l u c (into i first k _ m name ps components f p v at there is known walks) others low high =
      by other l u c others low high (λ x y w own more least most. lies_within v.0 first k t x y w own walks more least most)
    where
      ordered : parts_in_order types f.parts 0 ps ≡ true
      ordered = in_order types fit a name ps components (Some f) at

      within : parts_within types p.kind ≡ part_count types v.0
      within = ap (parts_within types) is

      inside : k + part_count types t ≤ part_count types v.0
      inside = walked_counts types fit v.0 first k t walks

      by : (x y w : ℕ) → IsControlled types w → Walks types a x y w → p.part + k ≤ y → y < p.part + k + part_count types t
          → ((x y w : ℕ) → IsControlled types w → Walks types v.0 x y w → k ≤ y → y < k + part_count types t → Within t first k w x y)
          → Within t (p.first + first) (p.part + k) w x y
      by _ _ w own ends low high more =
          let same : own.parts ≡ ps = ap shown_parts (sym own.declared ∙ at) in
          let behind = behind_parent types f.parts ps i p v (parents_first a name ps components (Some f) at) ordered
          (subst (λ (qs : List PartForm). shows_parent qs ≡ true) same own.own) there is in
          absurd (omega (arith, behind, low))
      by _ _ w own (into j x y _ n name_two qs components_two g q z at_two there_two is_two known_two further) low high more =
          let same : ps ≡ qs = ap shown_parts (sym at ∙ at_two) in
          let some = controlled_counts types fit w own in
          let inside_two = walked_counts types fit z.0 x y w further in
          let within_two : parts_within types q.kind ≡ part_count types z.0 = ap (parts_within types) is_two in
          let one = shared_part types f.parts 0 ps i j (q.part + y) p q ordered there (ap (λ (rs : List PartForm). slice_get rs j) same ∙ there_two)
          (omega (arith, low)) (omega (arith, high, within, inside)) (omega arith) (omega (arith, some, inside_two, within_two)) in
          let kinds : part.Record z ≡ part.Record v = sym is_two ∙ ap (λ (s : PartForm). s.kind) (sym one) ∙ is in
          let type : z ≡ v = cc kinds in
          let before : p.first ≡ q.first = ap (λ (s : PartForm). s.first) one in
          let number : p.part ≡ q.part = ap (λ (s : PartForm). s.part) one in
          let found = more x y w own (subst (λ (b : TypeNo). Walks types b.0 x y w) type further) (omega (arith, number, low)) (omega (arith, number, high)) in
          let rest = found.first_so in
          let behind = found.part_so in
          record {
            before = found.before;
            number = found.number;
            walk = found.walk;
            first_so = omega (arith, before, rest);
            part_so = omega (arith, number, behind);
          }

  -- Two records of a type that lie in another record are one, or the controlled parts of one are not those of the other.
  abbrev pub AreApart : (k l count : ℕ) → Type 0
  AreApart k l count = (k ≡ l) ⊎ ((k + count ≤ l) ⊎ (l + count ≤ k))

  pub two_walks : (a first k t other l : ℕ) → Walks types a first k t → Walks types a other l t → AreApart k l (part_count types t)
  two_walks a _ _ _ other l ends others = let inside = walked_counts types fit a other l a others in inl (omega (arith, inside))
  two_walks a _ _ t other l (into i first k _ m name ps components f p v at there is known walks) others =
      by other l t others refl (λ x y more. two_walks v.0 first k t x y walks more)
    where
      ordered : parts_in_order types f.parts 0 ps ≡ true
      ordered = in_order types fit a name ps components (Some f) at

      within : parts_within types p.kind ≡ part_count types v.0
      within = ap (parts_within types) is

      inside : k + part_count types t ≤ part_count types v.0
      inside = walked_counts types fit v.0 first k t walks

      all_inside : (p.part + k) + part_count types t ≤ part_count types a
      all_inside = walked_counts types fit a (p.first + first) (p.part + k) t (into i first k t m name ps components f p v at there is known walks)

      by : (x y w : ℕ) → Walks types a x y w → w ≡ t → ((x y : ℕ) → Walks types v.0 x y t → AreApart k y (part_count types t))
          → AreApart (p.part + k) y (part_count types t)
      by _ _ w ends same more = let count : part_count types a ≡ part_count types t = ap (part_count types) same in inl (omega (arith, all_inside, count))
      by _ _ w (into j x y _ n name_two qs components_two g q z at_two there_two is_two known_two further) same more =
          elim (cases_lt (q.part + y) ((p.part + k) + part_count types t)) [
            | inr past ↦ inr (inl (omega (arith, past)))
            | inl high ↦
                elim (cases_lt (p.part + k) ((q.part + y) + part_count types t)) [
                  | inr past ↦ inr (inr (omega (arith, past)))
                  | inl low ↦ both high low
                ]
          ]
        where
          same_parts : ps ≡ qs
          same_parts = ap shown_parts (sym at ∙ at_two)

          within_two : parts_within types q.kind ≡ part_count types z.0
          within_two = ap (parts_within types) is_two

          inside_two : y + part_count types t ≤ part_count types z.0
          inside_two = subst (λ (u : ℕ). y + part_count types u ≤ part_count types z.0) same (walked_counts types fit z.0 x y w further)

          there_too : slice_get ps j ≡ Some q
          there_too = ap (λ (rs : List PartForm). slice_get rs j) same_parts ∙ there_two

          one_of : (c : ℕ) → p.part ≤ c → c < p.part + parts_within types p.kind → q.part ≤ c → c < q.part + parts_within types q.kind → p ≡ q
          one_of c = shared_part types f.parts 0 ps i j c p q ordered there there_too

          both : q.part + y < (p.part + k) + part_count types t → p.part + k < (q.part + y) + part_count types t → AreApart (p.part + k) (q.part + y) (part_count types t)
          both high low =
              let one : p ≡ q = elim (cases_lt (q.part + y) (p.part + k)) [
                | inl less ↦
                    one_of (p.part + k) (omega arith) (omega (arith, high, less, within, inside)) (omega (arith, less))
                    (omega (arith, low, within_two, inside_two))
                | inr least ↦
                    one_of (q.part + y) (omega (arith, least)) (omega (arith, high, within, inside)) (omega arith)
                    (omega (arith, low, least, within_two, inside_two))
              ] in
              let kinds : part.Record z ≡ part.Record v = sym is_two ∙ ap (λ (s : PartForm). s.kind) (sym one) ∙ is in
              let type : z ≡ v = cc kinds in
              let number : p.part ≡ q.part = ap (λ (s : PartForm). s.part) one in
              let walked : Walks types v.0 x y t = subst (λ (b : TypeNo). Walks types b.0 x y t) type (subst (λ (u : ℕ). Walks types z.0 x y u) same further) in
              elim (more x y walked) [
                | inl alike ↦ inl (omega (arith, alike, number))
                | inr apart ↦
                    elim apart [
                      | inl before ↦ inr (inl (omega (arith, before, number)))
                      | inr behind ↦ inr (inr (omega (arith, behind, number)))
                    ]
              ]

  -- The same of records that lie in an object.
  pub two_walks_object :
      (object : Option ℕ) (first k t other l : ℕ) → WalksTo types object (Some t) first k → WalksTo types object (Some t) other l
      → AreApart k l (part_count types t)
  two_walks_object None first k t other l walks others = absurd walks
  two_walks_object (Some a) first k t other l walks others = two_walks a first k t other l walks others

  pub lies_within_object :
      (object : Option ℕ) (first k t other l u : ℕ) → IsControlled types u → WalksTo types object (Some t) first k
      → WalksTo types object (Some u) other l → k ≤ l
      → l < k + part_count types t → Within t first k u other l
  lies_within_object None first k t other l u c walks others low high = absurd walks
  lies_within_object (Some a) first k t other l u c walks others low high = lies_within a first k t other l u c walks others low high
