-- Where each declared component lies in its record, the controlled parts of objects are records that lie in them (7.6).

use Rattle.ada_typed.specs.Holding.{WalksTo, parts_reached}
use Rattle.std.proofs.Common.{◌≡◌, ◌≢◌, ℕ, zero, suc, ◌+◌, ◌<◌, ◌≤◌, ◌==◌, ◌&&◌, Bool, true, false, if◌then◌else◌, List, [], ◌∷◌, ◌++◌, length, map, get_or, Option, Some, None, inl, inr, arith, refl, sym, ap, ◌∙◌, subst}
use Rattle.std.specs.Prelude.{not, ◌||◌, count_by}
use Rattle.std.specs.List.{flat_map, list_all, slice_get}
use Rattle.std.proofs.lemmas.Bool.{eqb-true, ltb-true}
use Rattle.std.proofs.lemmas.Bool.Decides.{eqb_tells}
use Rattle.std.proofs.lemmas.Grind.{common_steps}
use Rattle.std.proofs.lemmas.Option.{slice_get-map, slice_get_within, slice_get-get_or}
use Rattle.std.specs.Option.{option_map}
use Rattle.ada_parts.specs.declared.tasks.Component.{Component}
use Rattle.ada_parts.specs.Part.{in_order, components_of}
use Rattle.ada_parts.specs.Shape.{Shape, own_parts, parts_of, shape_of}
use Rattle.ada_parts.proofs.Tables.{shape_newest, shape_older, parts_older}
use Rattle.ada_program.specs.declared.program.ComponentKind.{ComponentKind}
use Rattle.ada_program.specs.declared.program.ComponentKind.TheVariants as component
use Rattle.ada_program.specs.declared.program.Finalization.{Finalization}
use Rattle.ada_program.specs.declared.program.Part.{Part}
use Rattle.ada_program.specs.declared.program.PartKind.{PartKind}
use Rattle.ada_program.specs.declared.program.PartKind.TheVariants as kinds
use Rattle.ada_program.specs.declared.program.Program.{Program}
use Rattle.ada_program.specs.declared.program.TypeDefinition.{TypeDefinition}
use Rattle.ada_program.specs.declared.program.TypeNo.{TypeNo}
use Rattle.ada_program.specs.Controlled.{number_in, number_of, number_reached, type_numbered, parts_by, is_parent, has_parent, if_parts, with_parts, components_with_parts, shape_by, shapes_up_to, has_parts, shapes_of, own_first, firsts_of_kind, firsts_up_to, part_firsts}
use Rattle.ada_program.specs.ProgramForm.{PartForm, TypeForm, record_of, part_form, type_form, program_form}
use Rattle.ada_program.specs.Walks.{Walks, ends, into}
use Rattle.ada_program.specs.WellFormed.{IsWellFormed, component_lies, components_lie, components_within, components_in, is_alike, begins_with, finalization_in, finalization_of, named_in, reached_components, record_components, components_reached, has_record_at, has_parts_from, part_count, parts_within, is_parent as is_parent_form, is_numbered_below, is_of_earlier, parts_in_order, parent_first, type_fits}
use Rattle.ada_program.proofs.Shapes.{same_number, parts_said, shapes_length, parts_for as known_parts}
use Rattle.ada_program.proofs.Firsts.{as_many_firsts}
use Rattle.ada_program.proofs.Walks.{one_step}
use Rattle.ada_parts.proofs.Facts.{eq_self}
use Rattle.ada_meaning.proofs.Places.{IsDeclared, is_declared, Known, known, numbers_are_alone, parts_begin_with_components}
use Rattle.ada_meaning.specs.Step.{parts_for}
use Rattle.ada_typed.proofs.Operators.{and_left, and_right}
use Rattle.ada_typed.proofs.Lying.{Lies, whole, placed, inner, PartsAreRecords}
use Rattle.ada_typed.proofs.Parts.{shown_number, shapes_shown, known_firsts, known_number, parts_counted, parts_shown}
use Rattle.ada_typed.proofs.Records.{inside_record}
use Rattle.ada_typed.proofs.Walking.{walks_to, start_numbered, part_by_walk}

-- The shape of a number among the first ones is that of its type.
shape_at : (types : List TypeDefinition) (count n : ℕ) → n < count → shape_of (shapes_up_to types count) n ≡ shape_by types (shapes_up_to types n) (parts_by (type_numbered types n))
shape_at types zero n below = absurd (omega (arith, below))
shape_at types (suc count) n below = elim (eqb_tells n count) [ inl h ↦ newest h.1 | inr h ↦ older h.1 (λ less. shape_at types count n less) ]
  where
    own : Shape
    own = shape_by types (shapes_up_to types count) (parts_by (type_numbered types count))

    long : length (shapes_up_to types count) ≡ count
    long = shapes_length types count

    newest : n ≡ count → shape_of (own ∷ shapes_up_to types count) n ≡ shape_by types (shapes_up_to types n) (parts_by (type_numbered types n))
    newest same =
        ap (shape_of (own ∷ shapes_up_to types count)) (same ∙ sym long) ∙ shape_newest own (shapes_up_to types count)
        ∙ ap (λ (m : ℕ). shape_by types (shapes_up_to types m) (parts_by (type_numbered types m))) (sym same)

    older :
        n ≢ count → (n < count → shape_of (shapes_up_to types count) n ≡ shape_by types (shapes_up_to types n) (parts_by (type_numbered types n)))
        → shape_of (own ∷ shapes_up_to types count) n ≡ shape_by types (shapes_up_to types n) (parts_by (type_numbered types n))
    older apart more = shape_older own (shapes_up_to types count) n (λ e. apart (e ∙ long)) ∙ more (omega (arith, below, apart))

-- Types count alike in each table that has them.
parts_alike : (types : List TypeDefinition) (count n m : ℕ) → m < n → n ≤ count → parts_of (shapes_up_to types count) m ≡ parts_of (shapes_up_to types n) m
parts_alike types zero n m less within = absurd (omega (arith, less, within))
parts_alike types (suc count) n m less within = elim (eqb_tells n (suc count)) [ inl h ↦ same h.1 | inr h ↦ later h.1 (λ fewer. parts_alike types count n m less fewer) ]
  where
    own : Shape
    own = shape_by types (shapes_up_to types count) (parts_by (type_numbered types count))

    long : length (shapes_up_to types count) ≡ count
    long = shapes_length types count

    same : n ≡ suc count → parts_of (own ∷ shapes_up_to types count) m ≡ parts_of (shapes_up_to types n) m
    same is = ap (λ (k : ℕ). parts_of (shapes_up_to types k) m) (sym is)

    later : n ≢ suc count → (n ≤ count → parts_of (shapes_up_to types count) m ≡ parts_of (shapes_up_to types n) m) → parts_of (own ∷ shapes_up_to types count) m ≡ parts_of (shapes_up_to types n) m
    later apart more = parts_older own (shapes_up_to types count) m (λ e. omega (arith, e, long, less, within, apart)) ∙ more (omega (arith, within, apart))

-- A component with controlled parts is declared, and its first part has the number that its declaration says.
record Declared (types : List TypeDefinition) (qs : List Part) (base : ℕ) (c : Component) : Type 0 where
  i : ℕ
  q : Part
  u : TypeNo
  at : slice_get qs i ≡ Some q
  is : q.kind ≡ kinds.Record u
  numbered : number_of types (Some u.0) ≡ Some c.of
  first : c.first ≡ base + q.part.0

further : (types : List TypeDefinition) (q : Part) (qs : List Part) (base : ℕ) (c : Component) → Declared types qs base c → Declared types (q ∷ qs) base c
further types q qs base c d = record { i = suc d.i; q = d.q; u = d.u; at = d.at; is = d.is; numbered = d.numbered; first = d.first }

module _ (types : List TypeDefinition) (fit : list_all (type_fits (map type_form types)) (map type_form types) ≡ true) (n : ℕ) (below : n < count_by has_parts types) (base count : ℕ) where
  -- The components of a record that have controlled parts, from a number on.
  abbrev From : List ℕ → (from : ℕ) → List Component
  From ts from = in_order (parts_of (shapes_of types)) ts (base + from)

  abbrev Walked : List Part → (from : ℕ) → Type 0
  Walked qs from =
      parts_in_order (map type_form types) count from (map part_form qs) ≡ true → (j : ℕ) (c : Component)
      → slice_get (From (components_with_parts types (shapes_up_to types n) qs) from) j ≡ Some c → Declared types qs base c

  -- Where nothing is counted of a component, what is behind it follows.
  skips : (q : Part) (qs : List Part) (from within : ℕ) → within ≡ 0 → Walked qs from → parts_in_order (map type_form types) count (from + within) (map part_form qs) ≡ true → (j : ℕ) (c : Component) → slice_get (From (components_with_parts types (shapes_up_to types n) qs) from) j ≡ Some c → Declared types (q ∷ qs) base c
  skips q qs from within none more rest j c at =
      let same : from + within ≡ from = omega (arith, none) in
      further types q qs base c (more (ap (λ (m : ℕ). parts_in_order (map type_form types) count m (map part_form qs)) (sym same) ∙ rest) j c at)

  -- One with parts is the first, or what is behind it follows.
  takes : (q : Part) (qs : List Part) (u : TypeNo) (from m within : ℕ) → q.part.0 ≡ from → q.kind ≡ kinds.Record u → number_of types (Some u.0) ≡ Some m → within ≡ parts_of (shapes_of types) m → Walked qs (from + within) → parts_in_order (map type_form types) count (from + within) (map part_form qs) ≡ true → (j : ℕ) (c : Component) → slice_get (record { of = m; first = base + from } ∷ in_order (parts_of (shapes_of types)) (components_with_parts types (shapes_up_to types n) qs) (base + from + parts_of (shapes_of types) m)) j ≡ Some c → Declared types (q ∷ qs) base c
  takes q qs u from m within number is numbered counted more rest zero c at =
      let one : record { of = m; first = base + from } ≡ c = cc at in
      record {
        i = 0;
        q = q;
        u = u;
        at = refl;
        is = is;
        numbered = numbered ∙ ap (λ (d : Component). Some d.of) one;
        first = sym (ap (λ (d : Component). d.first) one) ∙ ap (λ (k : ℕ). base + k) (sym number);
      }
  takes q qs u from m within number is numbered counted more rest (suc j) c at =
      let same : base + from + parts_of (shapes_of types) m ≡ base + (from + within) = omega (arith, counted) in
      further types q qs base c (more rest j c (ap (λ (k : ℕ). slice_get (in_order (parts_of (shapes_of types)) (components_with_parts types (shapes_up_to types n) qs) k) j) (sym same) ∙ at))

  -- By the type of the component.
  by_number : (q : Part) (qs : List Part) (u : TypeNo) (from : ℕ) (o : Option ℕ) → number_of types (Some u.0) ≡ o → q.part.0 ≡ from → q.kind ≡ kinds.Record u → is_numbered_below n (finalization_of (map type_form types) u.0) ≡ true → ((m : ℕ) → Walked qs m) → parts_in_order (map type_form types) count (from + part_count (map type_form types) u.0) (map part_form qs) ≡ true → (j : ℕ) (c : Component) → slice_get (From (if_parts (shapes_up_to types n) o ++ components_with_parts types (shapes_up_to types n) qs) from) j ≡ Some c → Declared types (q ∷ qs) base c
  by_number q qs u from None known number is earlier more rest j c at =
      let none : part_count (map type_form types) u.0 ≡ 0 = parts_said types u.0 fit ∙ ap (known_parts (shapes_of types)) known in
      skips q qs from (part_count (map type_form types) u.0) none (more from) rest j c at
  by_number q qs u from (Some m) known number is earlier more rest j c at = by_count (parts_of (shapes_up_to types n) m == 0) refl at
    where
      number_below : (o : Option Finalization) → number_in o ≡ Some m → is_numbered_below n o ≡ true → m < n
      number_below None said less = absurd (cc said)
      number_below (Some f) said less = let same : f.number.0 ≡ m = cc said in subst (λ (k : ℕ). k < n) same (ltb-true f.number.0 n less)

      fewer : m < n
      fewer = number_below (finalization_of (map type_form types) u.0) (sym (same_number types u.0) ∙ known) earlier

      counted : part_count (map type_form types) u.0 ≡ parts_of (shapes_of types) m
      counted = parts_said types u.0 fit ∙ ap (known_parts (shapes_of types)) known

      alike : parts_of (shapes_of types) m ≡ parts_of (shapes_up_to types n) m
      alike = parts_alike types (count_by has_parts types) n m fewer (omega (arith, below))

      by_count : (none : Bool) → (parts_of (shapes_up_to types n) m == 0) ≡ none → slice_get (From ((if none then [] else m ∷ []) ++ components_with_parts types (shapes_up_to types n) qs) from) j ≡ Some c → Declared types (q ∷ qs) base c
      by_count true none at_so =
          let no_part : part_count (map type_form types) u.0 ≡ 0 = counted ∙ alike ∙ eqb-true (parts_of (shapes_up_to types n) m) 0 none in
          skips q qs from (part_count (map type_form types) u.0) no_part (more from) rest j c at_so
      by_count false some at_so =
          takes q qs u from m (part_count (map type_form types) u.0) number is known counted (more (from + part_count (map type_form types) u.0)) rest j c at_so

  by_kind : (q : Part) (qs : List Part) (from : ℕ) (kind : PartKind) → q.kind ≡ kind → not (is_parent_form kind) ≡ true → q.part.0 ≡ from → is_of_earlier (map type_form types) n kind ≡ true → ((m : ℕ) → Walked qs m) → parts_in_order (map type_form types) count (from + parts_within (map type_form types) kind) (map part_form qs) ≡ true → (j : ℕ) (c : Component) → slice_get (From (with_parts types (shapes_up_to types n) kind ++ components_with_parts types (shapes_up_to types n) qs) from) j ≡ Some c → Declared types (q ∷ qs) base c
  by_kind q qs from (kinds.Elementary kind) is unparented number earlier more rest j c at = skips q qs from 0 refl (more from) rest j c at
  by_kind q qs from (kinds.Record u) is unparented number earlier more rest j c at = by_number q qs u from (number_of types (Some u.0)) refl number is earlier more rest j c at
  by_kind q qs from kinds.Parent is unparented number earlier more rest j c at = absurd (cc unparented)

  walk : (qs : List Part) → list_all (λ p. not (is_parent_form p.kind)) (map part_form qs) ≡ true → list_all (λ p. is_of_earlier (map type_form types) n p.kind) (map part_form qs) ≡ true → (from : ℕ) → Walked qs from
  walk [] wholes earlier from rest j c at = absurd (cc at)
  walk (q ∷ qs) wholes earlier from rest j c at =
      let behind = parts_in_order (map type_form types) count (from + parts_within (map type_form types) q.kind) (map part_form qs) in
      let wholes_behind = list_all (λ p. not (is_parent_form p.kind)) (map part_form qs) in
      let earlier_behind = list_all (λ p. is_of_earlier (map type_form types) n p.kind) (map part_form qs) in
      by_kind q qs from q.kind refl (and_left (not (is_parent_form q.kind)) wholes_behind wholes) (eqb-true q.part.0 from (and_left (q.part.0 == from) behind rest))
      (and_left (is_of_earlier (map type_form types) n q.kind) earlier_behind earlier)
      (walk qs (and_right (not (is_parent_form q.kind)) wholes_behind wholes) (and_right (is_of_earlier (map type_form types) n q.kind) earlier_behind earlier))
      (and_right (q.part.0 == from) behind rest) j c at

  -- Behind the first component there is no parent part.
  no_parent : (qs : List Part) → list_all (λ p. not (is_parent_form p.kind)) (map part_form qs) ≡ true → has_parent qs ≡ false
  no_parent [] none = refl
  no_parent (q ∷ qs) none =
      let others = list_all (λ p. not (is_parent_form p.kind)) (map part_form qs) in
      ap (λ b. b || has_parent qs) (no_test q.kind (and_left (not (is_parent_form q.kind)) others none)) ∙ no_parent qs (and_right (not (is_parent_form q.kind)) others none)
    where
      no_test : (kind : PartKind) → not (is_parent_form kind) ≡ true → is_parent kind ≡ false
      no_test (kinds.Elementary kind) e = refl
      no_test (kinds.Record t) e = refl
      no_test kinds.Parent e = absurd (cc e)

  -- All components of the record, where it comes before them if it is controlled itself.
  whole_walk : (qs : List Part) → parent_first (map part_form qs) ≡ true → parts_in_order (map type_form types) count 0 (map part_form qs) ≡ true → list_all (λ p. is_of_earlier (map type_form types) n p.kind) (map part_form qs) ≡ true → (j : ℕ) (c : Component) → slice_get (in_order (parts_of (shapes_of types)) (components_with_parts types (shapes_up_to types n) qs) (base + own_parts (shape_by types (shapes_up_to types n) qs))) j ≡ Some c → Declared types qs base c
  whole_walk [] first rest earlier j c at = absurd (cc at)
  whole_walk (q ∷ qs) first rest earlier j c at = by_first q.kind refl rest earlier at
    where
      others : has_parent qs ≡ false
      others = no_parent qs first

      later : Bool
      later = list_all (λ p. is_of_earlier (map type_form types) n p.kind) (map part_form qs)

      by_first : (kind : PartKind) → q.kind ≡ kind → ((q.part.0 == 0) && parts_in_order (map type_form types) count (0 + parts_within (map type_form types) kind) (map part_form qs)) ≡ true → (is_of_earlier (map type_form types) n kind && later) ≡ true → slice_get (in_order (parts_of (shapes_of types)) (with_parts types (shapes_up_to types n) kind ++ components_with_parts types (shapes_up_to types n) qs) (base + (if is_parent kind || has_parent qs then 1 else 0))) j ≡ Some c → Declared types (q ∷ qs) base c
      by_first kinds.Parent is so early there =
          further types q qs base c (walk qs first (and_right true later early) 1 (and_right (q.part.0 == 0) (parts_in_order (map type_form types) count 1 (map part_form qs)) so) j c there)
      by_first (kinds.Elementary kind) is so early there =
          by_kind q qs 0 (kinds.Elementary kind) is refl (eqb-true q.part.0 0 (and_left (q.part.0 == 0) (parts_in_order (map type_form types) count 0 (map part_form qs)) so)) refl
          (walk qs first (and_right true later early)) (and_right (q.part.0 == 0) (parts_in_order (map type_form types) count 0 (map part_form qs)) so) j c
          (ap (λ (b : Bool). slice_get (in_order (parts_of (shapes_of types)) (components_with_parts types (shapes_up_to types n) qs) (base + (if b then 1 else 0))) j) (sym others) ∙ there)
      by_first (kinds.Record u) is so early there =
          by_kind q qs 0 (kinds.Record u) is refl (eqb-true q.part.0 0 (and_left (q.part.0 == 0) (parts_in_order (map type_form types) count (0 + part_count (map type_form types) u.0) (map part_form qs)) so)) (and_left (is_of_earlier (map type_form types) n (kinds.Record u)) later early)
          (walk qs first (and_right (is_of_earlier (map type_form types) n (kinds.Record u)) later early)) (and_right (q.part.0 == 0) (parts_in_order (map type_form types) count (0 + part_count (map type_form types) u.0) (map part_form qs)) so) j c
          (ap (λ (b : Bool). slice_get (in_order (parts_of (shapes_of types)) (with_parts types (shapes_up_to types n) (kinds.Record u) ++ components_with_parts types (shapes_up_to types n) qs) (base + (if b then 1 else 0))) j) (sym others) ∙ there)

passed : {X : Type 0} (test : X → Bool) (xs : List X) (t : ℕ) (x : X) → list_all test xs ≡ true → slice_get xs t ≡ Some x → test x ≡ true
passed test [] t x all at = absurd (cc at)
passed {X = X} test (y ∷ ys) zero x all at = let one : y ≡ x = cc at in subst (λ (z : X). test z ≡ true) one (and_left (test y) (list_all test ys) all)
passed test (y ∷ ys) (suc t) x all at = passed test ys t x (and_right (test y) (list_all test ys) all) at

-- The components of a record are those that it begins with.
alike_self : (k : ComponentKind) → is_alike k k ≡ true
alike_self (component.Integer initial) = refl
alike_self (component.Boolean initial) = refl
alike_self (component.Access access) = eq_self access.0

begins_self : (cs : List ComponentKind) → begins_with cs cs ≡ true
begins_self [] = refl
begins_self (k ∷ cs) = ap (λ (b : Bool). b && begins_with cs cs) (alike_self k) ∙ begins_self cs

-- Parts lie behind those before them where the last of them does.
parts_lie : (count part within : ℕ) → ((k : ℕ) → suc k ≡ count → part + k < within) → has_parts_from count part within ≡ true
parts_lie zero part within last = refl
parts_lie (suc k) part within last = let less = last k refl in grind (arith, common_steps, less)

last_there : (xs : List ℕ) (m : ℕ) → m < length xs → (x : ℕ) × (slice_get xs m ≡ Some x)
last_there xs m within = (get_or xs m 0, slice_get-get_or xs m 0 within)

same_parts : (shapes : List Shape) (o : Option ℕ) → known_parts shapes o ≡ parts_for shapes o
same_parts shapes None = refl
same_parts shapes (Some n) = refl

-- A record of the type of a number lies in the objects of a type where its components are, and its parts begin with those.
pub record LiesAt (types : List TypeDefinition) (access of part : ℕ) : Type 0 where
  pub record_type : ℕ
  pub first : ℕ
  pub numbered : number_of types (Some record_type) ≡ Some of
  pub lies : has_record_at (reached_components (map type_form types) access) first (record_components (map type_form types) record_type) ≡ true
  pub walk : WalksTo (map type_form types) (named_in (slice_get (map type_form types) access)) (Some record_type) first part
  pub begins :
      (k c : ℕ) → slice_get (part_firsts types (Some of)) k ≡ Some c
      → slice_get (part_firsts types (number_reached types access)) (part + k) ≡ Some (first + c)

module _ (program : Program) (well : IsWellFormed (program_form program)) where
  abbrev types : List TypeDefinition
  types = program.types.items

  abbrev forms : List TypeForm
  forms = map type_form program.types.items

  declared_components : (t of : ℕ) (d : IsDeclared program t of) → record_components forms t ≡ Some d.declares.1
  declared_components t of d = ap components_in d.declares.2

  -- The shape of a declared type.
  declared_shape : (t of : ℕ) (d : IsDeclared program t of) (k : Known program t d.ps d.f) → shape_of (shapes_of types) of ≡ shape_by types (shapes_up_to types d.f.number.0) k.qs
  declared_shape t of d k =
      ap (shape_of (shapes_of types)) (sym d.numbered) ∙ shape_at types (count_by has_parts types) d.f.number.0 k.says_so.below
      ∙ ap (shape_by types (shapes_up_to types d.f.number.0)) k.lists

  -- A declared component of a record that lies in an object does.
  abbrev Inside : (access n part record_type : ℕ) → Type 0
  Inside access n part record_type = (l : LiesAt types access n part) × (l.record_type ≡ record_type)

  declared_lies :
      (access of part : ℕ) (l : LiesAt types access of part) (d : IsDeclared program l.record_type of) (i : ℕ) (p : PartForm) (u : TypeNo) (m : ℕ)
      → slice_get d.ps i ≡ Some p → p.kind ≡ kinds.Record u → number_of types (Some u.0) ≡ Some m → Inside access m (part + p.part) u.0
  declared_lies access of part l d i p u m at is numbered =
      let t = l.record_type in
      let components = d.declares.1 in
      let record_form = record_of d.declares.0 d.ps components (Some d.f) in
      let all : list_all (component_lies forms components) d.ps ≡ true = passed (components_lie forms) forms t record_form well.components_lie d.declares.2 in
      let one : component_lies forms components p ≡ true = passed (component_lies forms components) d.ps i p all at in
      let own : has_record_at (Some components) p.first (record_components forms u.0) ≡ true = ap (λ (k : PartKind). has_record_at (Some components) p.first (components_within forms k)) (sym is) ∙ one in
      let inside = inside_record (reached_components forms access) (record_components forms t) (record_components forms u.0) l.first p.first l.lies
      (ap (λ (o : Option (List ComponentKind)). has_record_at o p.first (record_components forms u.0)) (declared_components t of d) ∙ own) in (
        record {
          record_type = u.0;
          first = l.first + p.first;
          numbered = numbered;
          lies = inside;
          walk = walks_to forms (named_in (slice_get forms access)) (Some t) (Some u.0) l.first part p.first p.part l.walk
              (one_step forms t i m d.declares.0 d.ps d.declares.1 d.f p u d.declares.2 at is (sym (same_number types u.0) ∙ numbered));
          begins = λ k e begun.
              let step = parts_begin_with_components program t i d.ps d.f p u m k e well d.declares at is numbered begun in
              let out = l.begins (p.part + k) (p.first + e) (ap (λ (j : ℕ). slice_get (part_firsts types (Some j)) (p.part + k)) (sym d.numbered) ∙ step) in
              let number : part + p.part + k ≡ part + (p.part + k) = omega arith in
              let sum : l.first + (p.first + e) ≡ l.first + p.first + e = omega arith in
              ap (slice_get (part_firsts types (number_reached types access))) number ∙ out ∙ ap (λ (j : ℕ). Some j) sum;
        },
        refl,
      )

  -- So does a component with controlled parts.
  inner_lies : (access of part i : ℕ) (c : Component) → LiesAt types access of part → slice_get (components_of (shapes_of types) of part) i ≡ Some c → LiesAt types access c.of c.first
  inner_lies access of part i c l at =
      let t = l.record_type in
      let d = is_declared program t of l.numbered in
      let k = known program t d.ps d.f well d.declares in
      let n = d.f.number.0 in
      let shape = declared_shape t of d k in
      let there : slice_get (in_order (parts_of (shapes_of types)) (components_with_parts types (shapes_up_to types n) k.qs) (part + own_parts (shape_by types (shapes_up_to types n) k.qs))) i ≡ Some c =
      ap (λ (s : Shape). slice_get (in_order (parts_of (shapes_of types)) s.components (part + own_parts s)) i) (sym shape) ∙ at in
      let found = whole_walk types well.types_fit n k.says_so.below part d.f.parts k.qs k.says_so.parents k.says_so.in_order k.says_so.earlier i c there in
      let form_at : slice_get d.ps found.i ≡ Some (part_form found.q) =
      ap (λ (rs : List PartForm). slice_get rs found.i) k.forms ∙ slice_get-map part_form k.qs found.i ∙ ap (option_map part_form) found.at in
      subst (LiesAt types access c.of) (sym found.first)
      (declared_lies access of part l d found.i (part_form found.q) found.u c.of form_at found.is found.numbered).0

  -- An object does itself.
  whole_lies : (access n t : ℕ) → named_in (slice_get forms access) ≡ Some t → shown_number forms (Some t) ≡ Some n → Inside access n 0 t
  whole_lies access n t named is =
      let numbered : number_of types (Some t) ≡ Some n = same_number types t ∙ is in
      let d = is_declared program t n numbered in
      let reached : reached_components forms access ≡ Some d.declares.1 = ap (components_reached forms) named ∙ declared_components t n d in
      let own : number_reached types access ≡ Some n = sym (known_number types forms access refl) ∙ ap (shown_number forms) named ∙ is in (
        record {
          record_type = t;
          first = 0;
          numbered = numbered;
          lies =
              ap (λ (o : Option (List ComponentKind)). has_record_at o 0 (record_components forms t)) reached
              ∙ ap (λ (o : Option (List ComponentKind)). has_record_at (Some d.declares.1) 0 o) (declared_components t n d) ∙ begins_self d.declares.1;
          walk = subst (λ (o : Option ℕ). WalksTo forms o (Some t) 0 0) (sym named) ends;
          begins = λ k c begun.
              let number : 0 + k ≡ k = omega arith in
              let sum : c ≡ 0 + c = omega arith in
              ap (λ (o : Option ℕ). slice_get (part_firsts types o) (0 + k)) own ∙ ap (slice_get (part_firsts types (Some n))) number ∙ begun ∙ ap (λ (j : ℕ). Some j) sum;
        },
        refl,
      )

  named_lies : (access n : ℕ) (o : Option ℕ) → named_in (slice_get forms access) ≡ o → shown_number forms o ≡ Some n → LiesAt types access n 0
  named_lies access n None named is = absurd (cc is)
  named_lies access n (Some t) named is = (whole_lies access n t named is).0

  -- So does a record that is found by walking from the object into declared components.
  walks_lie :
      (access of before : ℕ) (l : LiesAt types access of before) (t first part u n : ℕ) → l.record_type ≡ t → Walks forms t first part u
      → number_of types (Some u) ≡ Some n → LiesAt types access n (before + part)
  walks_lie access of before l t _ _ _ n own (ends) numbered =
      let twice : Some of ≡ Some n = sym l.numbered ∙ ap (λ (v : ℕ). number_of types (Some v)) own ∙ numbered in
      let same : of ≡ n = cc twice in
      let number : before ≡ before + 0 = omega arith in
      subst (LiesAt types access n) number (subst (λ (m : ℕ). LiesAt types access m before) same l)
  walks_lie access of before l t _ _ _ n own (into i first part u m name ps components f p v at there is known_as walks) numbered =
      let at_own : slice_get forms l.record_type ≡ Some (record_of name ps components (Some f)) = ap (slice_get forms) own ∙ at in
      let said : Some f.number.0 ≡ Some of = ap (λ (o : Option TypeForm). number_in (finalization_in o)) (sym at_own) ∙ sym (same_number types l.record_type) ∙ l.numbered in
      let d : IsDeclared program l.record_type of = record { ps = ps; f = f; declares = (name, components, at_own); numbered = cc said } in
      let next = declared_lies access of before l d i p v m there is (same_number types v.0 ∙ known_as) in
      let sum : before + p.part + part ≡ before + (p.part + part) = omega arith in
      subst (LiesAt types access n) sum (walks_lie access m (before + p.part) next.0 v.0 first part u n next.1 walks numbered)

  placed_lies :
      (access t n first part : ℕ) (o : Option ℕ) → named_in (slice_get forms access) ≡ o → shown_number forms (Some t) ≡ Some n
      → WalksTo forms o (Some t) first part → LiesAt types access n part
  placed_lies access t n first part None named numbered walks = absurd walks
  placed_lies access t n first part (Some w) named numbered walks =
      let start = start_numbered forms w first part t n walks numbered in
      let whole_one = whole_lies access start.0 w named start.1 in
      let number : 0 + part ≡ part = omega arith in
      subst (LiesAt types access n) number (walks_lie access start.0 0 whole_one.0 w first part t n whole_one.1 walks (same_number types t ∙ numbered))

  -- So does all that lies in the objects of a type.
  pub lies_at : (access of part : ℕ) → Lies forms access of part → LiesAt types access of part
  lies_at access _ _ (whole n is) = named_lies access n (named_in (slice_get forms access)) refl is
  lies_at access _ _ (placed t n first part is walks) = placed_lies access t n first part (named_in (slice_get forms access)) refl is walks
  lies_at access _ _ (inner of part i c lies at) =
      inner_lies access of part i c (lies_at access of part lies)
      (ap (λ (shapes : List Shape). slice_get (components_of shapes of part) i) (sym (shapes_shown types forms refl)) ∙ at)

  -- So the parts of objects are records that lie in them.
  pub parts_are_records : PartsAreRecords (program_form program).types
  parts_are_records access of part first t operable at numbered =
      let l = lies_at access of part operable.0 in
      let own : number_of types (Some t) ≡ Some of = same_number types t ∙ numbered in
      let same : l.record_type ≡ t = numbers_are_alone program l.record_type t of well l.numbered own in
      let d = is_declared program t of own in
      let k = known program t d.ps d.f well d.declares in
      let shape = declared_shape t of d k in
      let controlled : has_parent k.qs ≡ true =
      ap (λ (s : Shape). s.controlled) (sym shape) ∙ ap (λ (shapes : List Shape). (shape_of shapes of).controlled) (sym (shapes_shown types forms refl)) ∙ operable.1 in
      let itself : slice_get (part_firsts types (Some of)) 0 ≡ Some 0 =
      ap (λ (m : ℕ). slice_get (part_firsts types (Some m)) 0) (sym d.numbered) ∙ ap (λ (xs : List ℕ). slice_get xs 0) k.firsts
      ∙ ap (λ (b : Bool). slice_get (own_first b ++ flat_map (λ r. firsts_of_kind types (firsts_up_to types d.f.number.0) r.first.0 r.kind) k.qs) 0) controlled in
      let out = l.begins 0 0 itself in
      let number : part ≡ part + 0 = omega arith in
      let known_at : slice_get (part_firsts types (number_reached types access)) part ≡ Some first =
      ap (λ (xs : List ℕ). slice_get xs part) (sym (known_firsts types forms access refl)) ∙ at in
      let twice : Some first ≡ Some (l.first + 0) = sym known_at ∙ ap (slice_get (part_firsts types (number_reached types access))) number ∙ out in
      let one : first ≡ l.first + 0 = cc twice in
      let begun : l.first ≡ first = omega (arith, one) in (
        ap (λ (m : ℕ). has_record_at (reached_components forms access) m (record_components forms t)) (sym begun)
            ∙ ap (λ (v : ℕ). has_record_at (reached_components forms access) l.first (record_components forms v)) (sym same) ∙ l.lies,
        (
          parts_lie (part_count forms t) part (parts_reached forms access) (λ m last.
              let count : part_count forms t ≡ length (part_firsts types (Some of)) =
              parts_said types t well.types_fit ∙ ap (known_parts (shapes_of types)) own ∙ sym (as_many_firsts types (Some of)) in
              let all : parts_reached forms access ≡ length (part_firsts types (number_reached types access)) =
              parts_counted types forms access refl well.types_fit ∙ parts_shown types forms access refl ∙ sym (same_parts (shapes_of types) (number_reached types access))
              ∙ sym (as_many_firsts types (number_reached types access)) in
              let within : m < length (part_firsts types (Some of)) = omega (arith, last, count) in
              let met = last_there (part_firsts types (Some of)) m within in
              let far = slice_get_within (part_firsts types (number_reached types access)) (part + m) (l.first + met.0) (l.begins m met.0 met.1) in
              omega (arith, far, all)),
          λ some. subst (λ (m : ℕ). WalksTo forms (named_in (slice_get forms access)) (Some t) m part) begun
              (subst (λ (v : ℕ). WalksTo forms (named_in (slice_get forms access)) (Some v) l.first part) same l.walk),
          part_by_walk forms (named_in (slice_get forms access)) (Some t) l.first part
              (subst (λ (v : ℕ). WalksTo forms (named_in (slice_get forms access)) (Some v) l.first part) same l.walk),
        ),
      )
