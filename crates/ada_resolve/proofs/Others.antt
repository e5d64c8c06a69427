-- The collections that are created where the types end.

use Rattle.std.proofs.Common.{◌≡◌, ◌∙◌, ◌⊎◌, inl, inr, get_or, ℕ, ◌+◌, ◌≤◌, ◌<◌, ◌-◌, length, Bool, true, false, ◌&&◌, List, [], ◌∷◌, refl, sym, ap, subst, zero, suc, arith, eqb, eq-eqb}
use Rattle.std.specs.Prelude.{not, map, nat_le, nat_lt, Option, Some, None, is_some}
use Rattle.std.specs.List.{slice_get}
use Rattle.std.proofs.Math.ListN.{drop}
use Rattle.std.proofs.lemmas.Bool.{ne_eqb, leb-true, leb-false, le-ltb, lt-ltb}
use Rattle.std.proofs.lemmas.Option.{slice_get_cases}
use Rattle.ada_program.specs.Form.{DeclarationForm, collects}
use Rattle.ada_program.specs.ProgramForm.{TypeForm, record_of, access_to, object_of}
use Rattle.ada_program.specs.WellFormed as fits
use Rattle.ada_resolve.specs.Objects.{collections_of, missing_collections}
use Rattle.ada_resolve.specs.Instances.{is_collected}
use Rattle.ada_resolve.specs.Reading.{is_own_access, Rise, AreOthers}
use Rattle.ada_resolve.specs.Known.{Known}
use Rattle.ada_resolve.specs.Naming.{Context, is_one_of}
use Rattle.ada_resolve.proofs.WellFormed.Forms.{AreIn, forms}
use Rattle.ada_resolve.proofs.WellFormed.Tables.{access_same}

-- numbers that rise from one on
abbrev RiseFrom : ℕ → List ℕ → Type 0
RiseFrom t [] = Unit {0}
RiseFrom t (u ∷ us) = (t ≤ u) × RiseFrom (u + 1) us

rise : (t : ℕ) (us : List ℕ) → RiseFrom t us → Rise us
rise t [] r = tt
rise t (u ∷ []) r = tt
rise t (u ∷ (v ∷ us)) r = let next = r.1.0 in (omega (arith, next), rise (u + 1) (v ∷ us) r.1)

rise_before : (t s : ℕ) (us : List ℕ) → s ≤ t → RiseFrom t us → RiseFrom s us
rise_before t s [] w r = tt
rise_before t s (u ∷ us) w r = let next = r.0 in (omega (arith, w, next), r.1)

below : (t i : ℕ) (us : List ℕ) → i < t → RiseFrom t us → is_one_of i us ≡ false
below t i [] w r = refl
below t i (u ∷ us) w r =
    let next = r.0 in
    let off : eqb u i ≡ false = ne_eqb u i (omega (arith, w, next)) in
    rw off (below (u + 1) i us (omega (arith, w, next)) r.1)

-- the collections from a type on
record Rest (t : ℕ) (ts : List TypeForm) (es : List DeclarationForm) : Type 0 where
  others : List ℕ
  these : collections_of t ts es ≡ map collects others
  from : RiseFrom t others
  each : (i : ℕ) → is_one_of (t + i) others ≡ (fits.is_access ts i && not (is_collected (t + i) es))

further : (t : ℕ) (x : TypeForm) (ts : List TypeForm) (es : List DeclarationForm) (r : Rest (t + 1) ts es) (i : ℕ) → is_one_of (t + suc i) r.others ≡ (fits.is_access (x ∷ ts) (suc i) && not (is_collected (t + suc i) es))
further t x ts es r i = let next : t + suc i ≡ (t + 1) + i = omega arith in rw next (r.each i)

-- a type that is no access type
past_other : (t : ℕ) (form : TypeForm) (ts : List TypeForm) (es : List DeclarationForm) → collections_of t (form ∷ ts) es ≡ collections_of (t + 1) ts es → fits.is_access (form ∷ ts) 0 ≡ false → Rest (t + 1) ts es → Rest t (form ∷ ts) es
past_other t form ts es same off r = record {
  others = r.others;
  these = same ∙ r.these;
  from = rise_before (t + 1) t r.others (omega arith) r.from;
  each = each;
}
  where
    each : (i : ℕ) → is_one_of (t + i) r.others ≡ (fits.is_access (form ∷ ts) i && not (is_collected (t + i) es))
    each zero = below (t + 1) (t + 0) r.others (omega arith) r.from ∙ ap (λ (b : Bool). b && not (is_collected (t + 0) es)) (sym off)
    each (suc i) = further t form ts es r i

past_access : (t : ℕ) (name : List ℕ) (d : ℕ) (pool : Option ℕ) (ts : List TypeForm) (es : List DeclarationForm) → Rest (t + 1) ts es → (b : Bool) → is_collected t es ≡ b → Rest t (access_to name d pool ∷ ts) es
past_access t name d pool ts es r true is = record {
  others = r.others;
  these = rw is r.these;
  from = rise_before (t + 1) t r.others (omega arith) r.from;
  each = each;
}
  where
    here : t + 0 ≡ t
    here = omega arith

    each : (i : ℕ) → is_one_of (t + i) r.others ≡ (fits.is_access (access_to name d pool ∷ ts) i && not (is_collected (t + i) es))
    each zero = rw (here, is) (below (t + 1) t r.others (omega arith) r.from)
    each (suc i) = further t (access_to name d pool) ts es r i
past_access t name d pool ts es r false is = record {
  others = t ∷ r.others;
  these = rw is (ap (λ forms. collects t ∷ forms) r.these);
  from = (omega arith, r.from);
  each = each;
}
  where
    here : t + 0 ≡ t
    here = omega arith

    each : (i : ℕ) → is_one_of (t + i) (t ∷ r.others) ≡ (fits.is_access (access_to name d pool ∷ ts) i && not (is_collected (t + i) es))
    each zero = let same : eqb t t ≡ true = eq-eqb t t refl in rw (here, is, same) refl
    each (suc i) = let off : eqb t (t + suc i) ≡ false = ne_eqb t (t + suc i) (omega arith) in rw off (further t (access_to name d pool) ts es r i)

rest_of : (t : ℕ) (ts : List TypeForm) (es : List DeclarationForm) → Rest t ts es
rest_of t [] es = record { others = []; these = refl; from = tt; each = λ i. refl }
rest_of t (record_of name ps cs final ∷ ts) es = past_other t (record_of name ps cs final) ts es refl refl (rest_of (t + 1) ts es)
rest_of t (object_of record_type ∷ ts) es = past_other t (object_of record_type) ts es refl refl (rest_of (t + 1) ts es)
rest_of t (access_to name d pool ∷ ts) es = past_access t name d pool ts es (rest_of (t + 1) ts es) (is_collected t es) refl

-- a type of the part is one of those from its first type on
past : (n : ℕ) (xs : List TypeForm) (i : ℕ) → slice_get (drop n xs) i ≡ slice_get xs (n + i)
past zero xs i = let none : 0 + i ≡ i = omega arith in ap (λ (m : ℕ). slice_get xs m) (sym none)
past (suc n) [] i = refl
past (suc n) (x ∷ xs) i = past n xs i ∙ ap (λ (m : ℕ). slice_get (x ∷ xs) m) next
  where
    next : suc (n + i) ≡ suc n + i
    next = omega arith

-- an access type of these types is one of those that they become
same_access : (ts us : List TypeForm) (t : ℕ) → AreIn (forms ts) (forms us) → fits.is_access ts t ≡ (nat_lt t (length ts) && fits.is_access us t)
same_access ts us t w = by_place (slice_get_cases ts t).1
  where
    by_place : ((x : TypeForm) × (t < length ts) × (slice_get ts t ≡ Some x) × (get_or ts t x ≡ x)) ⊎ ((length ts ≤ t) × (slice_get ts t ≡ None)) → fits.is_access ts t ≡ (nat_lt t (length ts) && fits.is_access us t)
    by_place (inl (x, lt, there, same)) =
        sym (access_same ts us w t x there) ∙ ap (λ (b : Bool). b && fits.is_access us t) (sym (lt-ltb t (length ts) lt))
    by_place (inr (le, none)) =
        ap (λ (o : Option TypeForm). is_some (fits.designated_in o)) none ∙ ap (λ (b : Bool). b && fits.is_access us t) (sym (le-ltb t (length ts) le))

-- the others of a part, where its types end
pub record Remain (k : Known) (p : Context) (made : List ℕ) : Type 0 where
  pub others : List ℕ
  pub these : missing_collections k ≡ map collects others
  pub so : AreOthers p made others

pub others_of : (k : Known) (p : Context) (made : List ℕ) → p.place.first_type ≡ k.here.first_type → p.place.types ≡ length k.types → AreIn (forms k.types) (forms p.types) → ((t : ℕ) → is_one_of t made ≡ is_collected t k.here.elaborated) → Remain k p made
others_of k p made first count w collected = record {
  others = r.others;
  these = r.these;
  so = record { each = each; in_order = rise k.here.first_type r.others r.from };
}
  where
    r : Rest k.here.first_type (drop k.here.first_type k.types) k.here.elaborated
    r = rest_of k.here.first_type (drop k.here.first_type k.types) k.here.elaborated

    own : (i : ℕ) → is_one_of (k.here.first_type + i) r.others ≡ (fits.is_access k.types (k.here.first_type + i) && not (is_collected (k.here.first_type + i) k.here.elaborated))
    own i = r.each i ∙ ap (λ (o : Option TypeForm). is_some (fits.designated_in o) && not (is_collected (k.here.first_type + i) k.here.elaborated)) (past k.here.first_type k.types i)

    own_at : (t : ℕ) → k.here.first_type ≤ t → is_one_of t r.others ≡ (fits.is_access k.types t && not (is_collected t k.here.elaborated))
    own_at t le =
        let at : k.here.first_type + (t - k.here.first_type) ≡ t = omega arith in
        subst (λ (n : ℕ). is_one_of n r.others ≡ (fits.is_access k.types n && not (is_collected n k.here.elaborated))) at (own (t - k.here.first_type))

    by_first : (t : ℕ) (b : Bool) → nat_le k.here.first_type t ≡ b → is_one_of t r.others ≡ ((b && nat_lt t (length k.types) && fits.is_access p.types t) && not (is_one_of t made))
    by_first t false off = below k.here.first_type t r.others (leb-false k.here.first_type t off) r.from
    by_first t true on =
        own_at t (leb-true k.here.first_type t on) ∙
        (ap (λ (b : Bool). b && not (is_collected t k.here.elaborated)) (same_access k.types p.types t w) ∙
        ap (λ (b : Bool). (nat_lt t (length k.types) && fits.is_access p.types t) && not b) (sym (collected t)))

    each : (t : ℕ) → is_one_of t r.others ≡ (is_own_access p t && not (is_one_of t made))
    each t =
        by_first t (nat_le k.here.first_type t) refl ∙
        (ap (λ (n : ℕ). (nat_le n t && nat_lt t (length k.types) && fits.is_access p.types t) && not (is_one_of t made)) (sym first) ∙
        ap (λ (n : ℕ). (nat_le p.place.first_type t && nat_lt t n && fits.is_access p.types t) && not (is_one_of t made)) (sym count))
