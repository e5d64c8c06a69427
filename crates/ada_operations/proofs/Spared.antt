-- Where no body breaks a rule on operations, the end of an object uses none of its own access type, and none of one whose collection is created later, and its
-- adjustment frees none of its own and follows no value of that type; and tests of a program for those of later ones, and for what adjustments follow.

use Rattle.std.proofs.Common.{◌≡◌, ℕ, ◌<◌, zero, suc, Bool, true, false, ◌&&◌, ◌||◌, nat_lt, length, refl, sym, ap, ◌∙◌, subst, ◌⊎◌, inl, inr, arith}
use Rattle.std.proofs.lemmas.Bool.{cases_eq, cases_lt, and_parts, or_cases, ltb-true}
use Rattle.std.proofs.lemmas.Option.{slice_get_past}
use Rattle.std.specs.List.{slice_get}
use Rattle.std.specs.Prelude.{Option, Some, None, is_some, not}
use Rattle.ada_deeds.specs.Does.{Does, does, called_does, is_deed_of}
use Rattle.ada_deeds.specs.Forms.{parts_do}
use Rattle.ada_deeds.specs.Implicit.{implicit_of, record_at}
use Rattle.ada_deeds.specs.Within.{does_by}
use Rattle.ada_deeds.specs.declared.deed.Callee.{Callee}
use Rattle.ada_deeds.specs.declared.deed.Callee.TheVariants as callee
use Rattle.ada_deeds.specs.declared.deed.Deed.{Deed}
use Rattle.ada_deeds.specs.declared.deed.Deed.TheVariants.{Frees, Follows}
use Rattle.ada_deeds.specs.declared.deed.Operation.{Operation}
use Rattle.ada_deeds.specs.declared.deed.Operation.TheVariants.{Adjust, Finalize}
use Rattle.ada_deeds.proofs.Within.{counts_are_enough, is_one_of}
use Rattle.ada_operations.specs.Created.{collections_of, place_of, is_created_before}
use Rattle.ada_operations.specs.Laws.{AdjustsSpareTheirOwn, OperationDoes, EndsSpareNewer}
use Rattle.ada_operations.specs.Operations.{Overrides, AdjustsOrFinalizes, Uses, IsFirstFault}
use Rattle.ada_operations.specs.declared.rule.OperationRule.TheVariants.{FinalizeOrder}
use Rattle.ada_operations.proofs.Orders.{later_order}
use Rattle.ada_operations.proofs.Parts.{adjusts_free, ends_reach, told}
use Rattle.ada_program.specs.declared.program.ProcedureNo.{ProcedureNo}
use Rattle.ada_program.specs.declared.program.TypeNo.{TypeNo}
use Rattle.ada_program.specs.ProgramForm.{TypeForm, record_of, access_to, object_of, BodyForm, ProgramForm}
use Rattle.ada_program.specs.WellFormed.{is_access, designated_type, designated_in, components_in, object_in}

-- What is not so is false.
not_so : (a : Bool) → ¬ (a ≡ true) → a ≡ false
not_so true h = absurd (h refl)
not_so false h = refl

-- What does something has a body.
pub body_there : (p : ProgramForm) (d : Deed) (q : ProcedureNo) → Does p d (callee.Procedure q) → (b : BodyForm) × (slice_get p.bodies q.0 ≡ Some b)
body_there p d q (does of known each h) = go (slice_get p.bodies q.0) refl
  where
    go : (o : Option BodyForm) → slice_get p.bodies q.0 ≡ o → (b : BodyForm) × (slice_get p.bodies q.0 ≡ Some b)
    go None away = absurd (cc (sym (ap (called_does p.types known d) away) ∙ h))
    go (Some b) at = (b, at)

-- The objects of an access type are those that it designates (3.10).
designates : (u whole : ℕ) (o : Option TypeForm) → is_some (designated_in o) ≡ true →
    ((u ≡ whole) × (is_some (components_in o) ≡ true)) ⊎ (designated_in o ≡ Some whole) ⊎ (object_in o ≡ Some whole) → designated_in o ≡ Some whole
designates u whole None access h = absurd (cc access)
designates u whole (Some (record_of name parts components finalization)) access h = absurd (cc access)
designates u whole (Some (access_to name designated pool)) access (inl (same, is)) = absurd (cc is)
designates u whole (Some (access_to name designated pool)) access (inr (inl is)) = is
designates u whole (Some (access_to name designated pool)) access (inr (inr is)) = absurd (cc is)
designates u whole (Some (object_of record_type)) access h = absurd (cc access)

-- No collection is created before itself.
not_before_own : (p : ProgramForm) (t : ℕ) → is_created_before (collections_of p) t t ≡ false
not_before_own p t = later_order.apart (place_of (collections_of p) t)

-- An Adjust that follows a value of an access type where an object of that type is adjusted would follow it too late.
pub adjusts_spared : AdjustsSpareTheirOwn
adjusts_spared p none access whole designated done =
    let d : Deed = Follows (record { 0 = access }) in
    let (r, q, lies, overrides, follows) = told p d (callee.Parts Adjust whole) done in
    let (b, at) = body_there p d q follows in
    none (b.start_spot, FinalizeOrder)
    (q, b, at, refl, (r, inl overrides, (access, inr follows, (access, whole.0, designated, lies, not_before_own p access))))

module _ (p : ProgramForm) (none : IsFirstFault p None) (t : ℕ) (access : is_access p.types t ≡ true) where
  -- No operation that Adjust or Finalize is uses a type, by some deed, whose collection is not created before that of the type for whose objects it is called
  -- (7.6.1).
  uses_older : (operation : Operation) (d : Deed) (u : ℕ) → ((q : ProcedureNo) (r : ℕ) → Overrides p q operation r → AdjustsOrFinalizes p q r) →
      ((q : ProcedureNo) → Does p d (callee.Procedure q) → Uses p q u) → is_created_before (collections_of p) u t ≡ false → ¬ (OperationDoes p operation d t)
  uses_older operation d u one uses late (whole, objects, (r, q, lies, overrides, done)) =
      let (b, at) = body_there p d q done in
      let designated : designated_type p.types t ≡ Some whole = designates t whole (slice_get p.types t) access objects in
      none (b.start_spot, FinalizeOrder) (q, b, at, refl, (r, one q r overrides, (u, uses q done, (t, whole, designated, lies, late))))

  -- The end of an object does neither deed to such a type.
  reaches_none : (u : ℕ) → is_created_before (collections_of p) u t ≡ false → ¬ ((implicit_of p).end_reaches t u ≡ true)
  reaches_none u late h = by ((ends_reach p t u).0 h)
    where
      by : OperationDoes p Finalize (Frees (record { 0 = u })) t ⊎ OperationDoes p Finalize (Follows (record { 0 = u })) t → ⊥
      by (inl frees) = uses_older Finalize (Frees (record { 0 = u })) u (λ q r is. inr is) (λ q does. inl does) late frees
      by (inr follows) = uses_older Finalize (Follows (record { 0 = u })) u (λ q r is. inr is) (λ q does. inr does) late follows

  pub spared : ((implicit_of p).end_reaches t t ≡ false) × ((implicit_of p).adjust_frees t t ≡ false)
  spared = (
    not_so ((implicit_of p).end_reaches t t) (reaches_none t (not_before_own p t)),
    not_so ((implicit_of p).adjust_frees t t)
        (λ h. uses_older Adjust (Frees (record { 0 = t })) t (λ q r is. inl is) (λ q does. inl does) (not_before_own p t) ((adjusts_free p t t).0 h)),
  )

-- So what it uses is of types whose collections are created before that of its own.
pub spared_newer : EndsSpareNewer
spared_newer p none t u access reached = by (is_created_before (collections_of p) u t) refl
  where
    by : (before : Bool) → is_created_before (collections_of p) u t ≡ before → is_created_before (collections_of p) u t ≡ true
    by true is = is
    by false late = absurd (reaches_none p none t access u late reached)

-- Tests of a program.

-- Where an object of a type ends, is what is reached of types whose collections are created before that of its own: of so many types?
abbrev pub reaches_older : ProgramForm → (access count : ℕ) → Bool
reaches_older p t zero = true
reaches_older p t (suc n) = (not ((implicit_of p).end_reaches t n) || is_created_before (collections_of p) n t) && reaches_older p t n

-- Is it so with each of so many types that is an access type?
abbrev pub reach_older_up_to : ProgramForm → (count : ℕ) → Bool
reach_older_up_to p zero = true
reach_older_up_to p (suc n) = (not (is_access p.types n) || reaches_older p n (length p.types)) && reach_older_up_to p n

-- Is it so with all its types?
abbrev pub reach_older : ProgramForm → Bool
reach_older p = reach_older_up_to p (length p.types)

-- Of a condition that is so, what is asked then is so.
asked_then : (condition test : Bool) → (not condition || test) ≡ true → condition ≡ true → test ≡ true
asked_then true test e is = e
asked_then false test e is = absurd (cc is)

module _ (p : ProgramForm) where
  older_among : (t count : ℕ) → reaches_older p t count ≡ true → (u : ℕ) → u < count → (implicit_of p).end_reaches t u ≡ true →
      is_created_before (collections_of p) u t ≡ true
  older_among t zero all u below reached = absurd (omega (arith, below))
  older_among t (suc n) all u below reached =
      let here : Bool = not ((implicit_of p).end_reaches t n) || is_created_before (collections_of p) n t in
      let both = and_parts here (reaches_older p t n) all in
      elim (cases_eq u n) [
        | inl same ↦
            let at_last = asked_then ((implicit_of p).end_reaches t n) (is_created_before (collections_of p) n t) both.0 in
            subst (λ (v : ℕ). (implicit_of p).end_reaches t v ≡ true → is_created_before (collections_of p) v t ≡ true) (sym same) at_last reached
        | inr other ↦ older_among t n both.1 u (omega (arith, below, other)) reached
      ]

  access_among : (count : ℕ) → reach_older_up_to p count ≡ true → (t : ℕ) → t < count → is_access p.types t ≡ true → reaches_older p t (length p.types) ≡ true
  access_among zero all t below access = absurd (omega (arith, below))
  access_among (suc n) all t below access =
      let both = and_parts (not (is_access p.types n) || reaches_older p n (length p.types)) (reach_older_up_to p n) all in
      elim (cases_eq t n) [
        | inl same ↦
            let at_last = asked_then (is_access p.types n) (reaches_older p n (length p.types)) both.0 in
            subst (λ (v : ℕ). is_access p.types v ≡ true → reaches_older p v (length p.types) ≡ true) (sym same) at_last access
        | inr other ↦ access_among n both.1 t (omega (arith, below, other)) access
      ]

  -- An access type is a type.
  access_there : (t : ℕ) → is_access p.types t ≡ true → t < length p.types
  access_there t access = elim (cases_lt t (length p.types)) [
    | inl less ↦ less
    | inr more ↦ absurd (cc (sym (ap (λ (o : Option TypeForm). is_some (designated_in o)) (slice_get_past p.types t more)) ∙ access))
  ]

  -- What an operation of the parts of an object frees or follows is a type of the program.
  deed_of : (d : Deed) (operation : Operation) (o : Option ℕ) → parts_do (does_by p d) operation o ≡ true → is_deed_of p d ≡ true
  deed_of d operation None done = absurd (cc done)
  deed_of d operation (Some whole) done =
      let c : Callee = callee.Parts operation (record { 0 = whole }) in
      is_one_of p d c ((counts_are_enough p d c).0 done)

  reached_there : (t u : ℕ) → (implicit_of p).end_reaches t u ≡ true → u < length p.types
  reached_there t u reached = ltb-true u (length p.types) (by (or_cases (parts_do (does_by p frees) Finalize o) (parts_do (does_by p follows) Finalize o) reached))
    where
      frees : Deed
      frees = Frees (record { 0 = u })

      follows : Deed
      follows = Follows (record { 0 = u })

      o : Option ℕ
      o = record_at p.types t

      by : (parts_do (does_by p frees) Finalize o ≡ true) ⊎ (parts_do (does_by p follows) Finalize o ≡ true) → nat_lt u (length p.types) ≡ true
      by (inl freed) = deed_of frees Finalize o freed
      by (inr followed) = deed_of follows Finalize o followed

  -- A program that passes the test reaches older ones alone, where objects of access types end.
  pub older_by : reach_older p ≡ true → (t u : ℕ) → is_access p.types t ≡ true → (implicit_of p).end_reaches t u ≡ true →
      is_created_before (collections_of p) u t ≡ true
  older_by all t u access reached =
      older_among t (length p.types) (access_among (length p.types) all t (access_there t access) access) u (reached_there t u reached) reached

-- Where an object of a type is adjusted, if that is an access type, is no value of it followed?
abbrev pub adjusts_aside : ProgramForm → (access : ℕ) → (designated : Option ℕ) → Bool
adjusts_aside p t None = true
adjusts_aside p t (Some whole) = not (does_by p (Follows (record { 0 = t })) (callee.Parts Adjust (record { 0 = whole })))

-- Is it so with each of so many types?
abbrev pub adjust_aside_up_to : ProgramForm → (count : ℕ) → Bool
adjust_aside_up_to p zero = true
adjust_aside_up_to p (suc n) = adjusts_aside p n (designated_type p.types n) && adjust_aside_up_to p n

-- Is it so with all its types?
abbrev pub adjust_aside : ProgramForm → Bool
adjust_aside p = adjust_aside_up_to p (length p.types)

module _ (p : ProgramForm) where
  aside_among : (count : ℕ) → adjust_aside_up_to p count ≡ true → (t : ℕ) → t < count → adjusts_aside p t (designated_type p.types t) ≡ true
  aside_among zero all t below = absurd (omega (arith, below))
  aside_among (suc n) all t below =
      let both = and_parts (adjusts_aside p n (designated_type p.types n)) (adjust_aside_up_to p n) all in
      elim (cases_eq t n) [
        | inl same ↦ subst (λ (v : ℕ). adjusts_aside p v (designated_type p.types v) ≡ true) (sym same) both.0
        | inr other ↦ aside_among n both.1 t (omega (arith, below, other))
      ]

  -- In a program that passes the test, no value of an access type is followed where an object is adjusted that is of that type.
  pub aside_by : adjust_aside p ≡ true → (access : ℕ) (whole : TypeNo) → designated_type p.types access ≡ Some whole.0
      → ¬ (Does p (Follows (record { 0 = access })) (callee.Parts Adjust whole))
  aside_by all access whole designated done =
      let there : access < length p.types = access_there p access (ap (λ (o : Option ℕ). is_some o) designated) in
      let passed = aside_among (length p.types) all access there in
      let named : not (does_by p (Follows (record { 0 = access })) (callee.Parts Adjust whole)) ≡ true =
      sym (ap (adjusts_aside p access) designated) ∙ passed in
      cc (sym (ap not ((counts_are_enough p (Follows (record { 0 = access })) (callee.Parts Adjust whole)).1 done)) ∙ named)
