-- Which record types are calm, by their numbers among those with controlled parts: exactly those in whose objects no record lies whose own operations are
-- not so (7.6).

use Rattle.std.proofs.Common.{◌≡◌, ℕ, zero, suc, ◌+◌, ◌<◌, ◌≤◌, Bool, true, false, List, [], ◌∷◌, ◌++◌, length, map, get_or, Option, Some, None, refl, sym, ap, ◌∙◌, arith, add-one, Bor}
use Rattle.std.specs.Prelude.{◌↔◌, ◌&&◌}
use Rattle.std.specs.List.{list_all, slice_get, slice_index_or}
use Rattle.std.specs.Option.{option_copied, option_map}
use Rattle.std.proofs.lemmas.Bool.{ltb-true}
use Rattle.ada_program.specs.declared.program.ComponentKind.{ComponentKind}
use Rattle.ada_program.specs.declared.program.Finalization.{Finalization}
use Rattle.ada_program.specs.declared.program.PartKind.{PartKind}
use Rattle.ada_program.specs.declared.program.PartKind.TheVariants as part
use Rattle.ada_program.specs.declared.program.TypeDefinition.{TypeDefinition}
use Rattle.ada_program.specs.Controlled.{number_in}
use Rattle.ada_program.specs.ProgramForm.{PartForm, TypeForm, record_of, access_to, object_of, type_form}
use Rattle.ada_program.specs.Walks.{Walks, ends, into}
use Rattle.ada_program.specs.WellFormed.{finalization_in, finalization_of, is_numbered_below, is_of_earlier, numbered_types, type_fits}
use Rattle.ada_quiet.specs.Calm.{is_known_calm, is_calm_part, is_calm_found, type_numbered, calm_up_to, calm_by}
use Rattle.ada_quiet.specs.Known.{IsNumbered}
use Rattle.ada_quiet.specs.Laws.{IsToldWithin, CalmIsToldWithin}
use Rattle.ada_quiet.proofs.InUse.{first_of_both, second_of_both}
use Rattle.ada_quiet.proofs.NumberedTypes.{item_numbered, table_whole, one_of_all, all_of_each, known_up, kept_up, says}

module _ (own : TypeForm → Bool) (types given : List TypeDefinition) (are : given ≡ types) (table items : List (Option (Bor TypeDefinition)))
    (same : items ≡ table) (known : IsNumbered given (map option_copied table)) where
  -- With a type of the table, it is known of one more.
  pub known_of_one_more :
      (n : ℕ) → n < length items → (item : Option (Bor TypeDefinition)) → item ≡ get_or items n item → (calm seen more : List Bool) (answer : Bool)
      → seen ≡ calm → more ≡ calm ++ answer ∷ []
      → calm ≡ calm_up_to own (map type_form types) n → answer ≡ is_calm_found own (map type_form types) seen (option_map type_form (option_copied item))
      → more ≡ calm_up_to own (map type_form types) (n + 1)
  known_of_one_more n below item at calm seen more answer sees pushed before told =
      let one = item_numbered types given are table items same known n below item at in
      pushed
      ∙ ap (λ (b : Bool). calm ++ b ∷ [])
      (told ∙ ap (λ (c : List Bool). is_calm_found own (map type_form types) c (option_map type_form (option_copied item))) sees
      ∙ ap (is_calm_found own (map type_form types) calm) one)
      ∙ ap (λ (c : List Bool). c ++ is_calm_found own (map type_form types) c (type_numbered (map type_form types) n) ∷ []) before
      ∙ ap (calm_up_to own (map type_form types)) (sym (add-one n))

  -- Behind the table it is known of all.
  pub known_of_all : (n : ℕ) (calm : List Bool) → n ≡ length items → calm ≡ calm_up_to own (map type_form types) n → calm ≡ calm_by own (map type_form types)
  known_of_all n calm whole before = before ∙ ap (calm_up_to own (map type_form types)) (whole ∙ table_whole types given are table items same known)

module _ (own : TypeForm → Bool) (types : List TypeForm) where
  -- What is known of so many types.
  abbrev up : ℕ → List Bool
  up n = calm_up_to own types n

  kept_before : (count n m : ℕ) → n ≤ count → m < n → slice_index_or (up n) m false ≡ slice_index_or (up count) m false
  kept_before = kept_up false types (is_calm_found own types) up refl (λ n. refl)

  -- So it is with declared components of types before another.
  part_kept : (count n : ℕ) → n ≤ count → (kind : PartKind) → is_of_earlier types n kind ≡ true
      → is_calm_part types (up n) kind ≡ is_calm_part types (up count) kind
  part_kept count n within (part.Elementary kind) earlier = refl
  part_kept count n within (part.Record t) earlier = by (finalization_of types t.0) earlier
    where
      by : (o : Option Finalization) → is_numbered_below n o ≡ true → is_known_calm (up n) o ≡ is_known_calm (up count) o
      by None less = refl
      by (Some f) less = kept_before count n f.number.0 within (ltb-true f.number.0 n less)
  part_kept count n within part.Parent earlier = refl

  parts_kept : (count n : ℕ) → n ≤ count → (ps : List PartForm) → list_all (λ q. is_of_earlier types n q.kind) ps ≡ true
      → list_all (λ c. is_calm_part types (up n) c.kind) ps ≡ list_all (λ c. is_calm_part types (up count) c.kind) ps
  parts_kept count n within [] earlier = refl
  parts_kept count n within (p ∷ ps) earlier =
      let here = part_kept count n within p.kind (first_of_both (is_of_earlier types n p.kind) (list_all (λ q. is_of_earlier types n q.kind) ps) earlier) in
      let later = parts_kept count n within ps (second_of_both (is_of_earlier types n p.kind) (list_all (λ q. is_of_earlier types n q.kind) ps) earlier) in
      ap (λ (b : Bool). b && list_all (λ c. is_calm_part types (up n) c.kind) ps) here ∙ ap (λ (b : Bool). is_calm_part types (up count) p.kind && b) later

  module _ (fit : list_all (type_fits types) types ≡ true) where
    -- What is known of all types.
    abbrev all : List Bool
    all = calm_by own types

    -- So it is known to be calm exactly where it is so by what is known of all types.
    pub known_at : (t : ℕ) (name : List ℕ) (ps : List PartForm) (components : List ComponentKind) (f : Finalization)
        → slice_get types t ≡ Some (record_of name ps components (Some f))
        → slice_index_or all f.number.0 false ≡ (own (record_of name ps components (Some f)) && list_all (λ c. is_calm_part types all c.kind) ps)
    known_at t name ps components f at =
        let s = says types fit t name ps components f at in
        known_up false types (is_calm_found own types) up refl (λ n. refl) (numbered_types types) f.number.0 s.below
        ∙ ap (is_calm_found own types (up f.number.0)) s.found
        ∙ ap (λ (b : Bool). own (record_of name ps components (Some f)) && b)
        (parts_kept (numbered_types types) f.number.0 (let less = s.below in omega (arith, less)) ps s.earlier)

    -- A record that lies in one of a calm type with controlled parts is calm itself: its own operations are so.
    own_at : (u : ℕ) (form : TypeForm) (f : Finalization) → slice_get types u ≡ Some form → finalization_of types u ≡ Some f
        → slice_index_or all f.number.0 false ≡ true → own form ≡ true
    own_at u (record_of name ps components None) f at is calm = let none : None ≡ Some f = ap finalization_in (sym at) ∙ is in absurd (cc none)
    own_at u (record_of name ps components (Some g)) f at is calm =
        let same : Some g ≡ Some f = ap finalization_in (sym at) ∙ is in
        let told : slice_index_or all g.number.0 false ≡ true = ap (λ (o : Option Finalization). is_known_calm all o) same ∙ calm in
        first_of_both (own (record_of name ps components (Some g))) (list_all (λ c. is_calm_part types all c.kind) ps)
        (sym (known_at u name ps components g at) ∙ told)
    own_at u (access_to name designated pool) f at is calm = let none : None ≡ Some f = ap finalization_in (sym at) ∙ is in absurd (cc none)
    own_at u (object_of record_type) f at is calm = let none : None ≡ Some f = ap finalization_in (sym at) ∙ is in absurd (cc none)

    walked_calm : (t first part u : ℕ) (f : Finalization) (form : TypeForm) → Walks types t first part u → finalization_of types t ≡ Some f
        → slice_index_or all f.number.0 false ≡ true
        → slice_get types u ≡ Some form → own form ≡ true
    walked_calm t _ _ _ f form ends is calm at = own_at t form f at is calm
    walked_calm t _ _ u f form (into i first within _ m name ps components g q v declared there kind numbered walks) is calm at =
        let same : Some g ≡ Some f = ap finalization_in (sym declared) ∙ is in
        let told : slice_index_or all g.number.0 false ≡ true = ap (λ (o : Option Finalization). is_known_calm all o) same ∙ calm in
        let parts = second_of_both (own (record_of name ps components (Some g))) (list_all (λ c. is_calm_part types all c.kind) ps)
        (sym (known_at t name ps components g declared) ∙ told) in
        let one : is_calm_part types all q.kind ≡ true = one_of_all (λ (c : PartForm). is_calm_part types all c.kind) ps i q parts there in
        let known : is_known_calm all (finalization_of types v.0) ≡ true = rw kind at one in
        inside (λ h of known. walked_calm v.0 first within u h form walks of known at) (finalization_of types v.0) refl numbered known
      where
        inside : ((h : Finalization) → finalization_of types v.0 ≡ Some h → slice_index_or all h.number.0 false ≡ true → own form ≡ true)
            → (o : Option Finalization) → finalization_of types v.0 ≡ o → number_in o ≡ Some m → is_known_calm all o ≡ true → own form ≡ true
        inside again None of some known = absurd (cc some)
        inside again (Some h) of some known = again h of known

    -- Conversely, a type is calm, where that is told of each record that lies in its objects: so it is with the types of its components, which have lesser
    -- numbers.
    abbrev Again : (number : ℕ) → Type 0
    Again number = (v : ℕ) (inner : TypeForm) (h : Finalization) → slice_get types v ≡ Some inner → finalization_in (Some inner) ≡ Some h → h.number.0 < number
        → IsToldWithin own types v → slice_index_or all h.number.0 false ≡ true

    components_calm :
        (t : ℕ) (name : List ℕ) (ps : List PartForm) (components : List ComponentKind) (g : Finalization)
        → slice_get types t ≡ Some (record_of name ps components (Some g))
        → IsToldWithin own types t → Again g.number.0 → (i : ℕ) (q : PartForm) → slice_get ps i ≡ Some q → (kind : PartKind) → q.kind ≡ kind
        → is_of_earlier types g.number.0 kind ≡ true → is_calm_part types all kind ≡ true
    components_calm t name ps components g at told again i q there (part.Elementary kind) of earlier = refl
    components_calm t name ps components g at told again i q there (part.Record v) of earlier = inside (slice_get types v.0) refl
      where
        parted : (inner : TypeForm) → slice_get types v.0 ≡ Some inner → (o : Option Finalization) → finalization_in (Some inner) ≡ o
            → is_known_calm all o ≡ true
        parted inner found None none = refl
        parted inner found (Some h) some =
            let whole : finalization_of types v.0 ≡ Some h = ap finalization_in found ∙ some in
            let less = ltb-true h.number.0 g.number.0 (sym (ap (is_numbered_below g.number.0) whole) ∙ earlier) in
            again v.0 inner h found some less
            (λ u first within form walks is_there. told u (q.first + first) (q.part + within) form
            (into i first within u h.number.0 name ps components g q v at there of (ap number_in whole) walks) is_there)

        inside : (o : Option TypeForm) → slice_get types v.0 ≡ o → is_known_calm all (finalization_of types v.0) ≡ true
        inside None found = ap (λ (form : Option TypeForm). is_known_calm all (finalization_in form)) found
        inside (Some inner) found =
            ap (λ (form : Option TypeForm). is_known_calm all (finalization_in form)) found ∙ parted inner found (finalization_in (Some inner)) refl
    components_calm t name ps components g at told again i q there part.Parent of earlier = refl

    calm_within : (bound t : ℕ) (form : TypeForm) (f : Finalization) → slice_get types t ≡ Some form → finalization_in (Some form) ≡ Some f
        → f.number.0 < bound → IsToldWithin own types t
        → slice_index_or all f.number.0 false ≡ true
    calm_within zero t form f at is below told = absurd (omega (arith, below))
    calm_within (suc bound) t (record_of name ps components None) f at is below told = absurd (cc is)
    calm_within (suc bound) t (record_of name ps components (Some g)) f at is below told =
        let same : g ≡ f = cc is in
        let number : g.number.0 ≡ f.number.0 = ap (λ (h : Finalization). h.number.0) same in
        let again : Again g.number.0 = λ v inner h found some less within. calm_within bound v inner h found some (omega (arith, less, number, below)) within in
        ap (λ (o : Option Finalization). is_known_calm all o) (sym is)
        ∙ known_at t name ps components g at
        ∙ ap (λ (b : Bool). b && list_all (λ c. is_calm_part types all c.kind) ps) (told t 0 0 (record_of name ps components (Some g)) ends at)
        ∙ all_of_each (λ (c : PartForm). is_calm_part types all c.kind) ps
        (λ i q there. components_calm t name ps components g at told again i q there q.kind refl
        (one_of_all (λ (c : PartForm). is_of_earlier types g.number.0 c.kind) ps i q (says types fit t name ps components g at).earlier there))
    calm_within (suc bound) t (access_to name designated pool) f at is below told = absurd (cc is)
    calm_within (suc bound) t (object_of record_type) f at is below told = absurd (cc is)

    told_calm : (t : ℕ) (o : Option TypeForm) (f : Finalization) → slice_get types t ≡ o → finalization_in o ≡ Some f → IsToldWithin own types t
        → slice_index_or all f.number.0 false ≡ true
    told_calm t None f at is told = absurd (cc is)
    told_calm t (Some form) f at is told = calm_within (suc f.number.0) t form f at is (omega arith) told

    -- Of a record that lies in one of a calm type this is told.
    pub calm_told : (t : ℕ) (f : Finalization) → finalization_of types t ≡ Some f → is_known_calm (calm_by own types) (Some f) ≡ true → IsToldWithin own types t
    calm_told t f is calm u first within form walks at = walked_calm t first within u f form walks is calm at

    pub told_within : (t : ℕ) (f : Finalization) → finalization_of types t ≡ Some f
        → (is_known_calm (calm_by own types) (Some f) ≡ true) ↔ IsToldWithin own types t
    told_within t f is = (calm_told t f is, told_calm t (slice_get types t) f refl is)

pub calm_is_told_within : CalmIsToldWithin
calm_is_told_within p own well t f is = told_within own p.types well.types_fit t f is
