-- Where no body leads back to itself by what its own declarations create, a chain of bodies that lead to each other names each body once (7.6, 3.3.1): so one
-- call more than there are bodies adds nothing to what a call of an operation costs.

use Rattle.std.proofs.Common.{◌≡◌, ℕ, zero, suc, ◌+◌, ◌<◌, ◌≤◌, Bool, true, false, List, [], ◌∷◌, length, get_or, set, map, Option, Some, None, refl, sym, ap, ◌∙◌, inl, inr, subst, arith}
use Rattle.std.specs.Prelude.{not, if◌then◌else◌, count_by}
use Rattle.std.specs.List.{slice_get}
use Rattle.std.proofs.lemmas.Bool.{cases_eq}
use Rattle.std.proofs.lemmas.List.{length-map, length-set, get_or-set_other}
use Rattle.std.proofs.lemmas.List.Sums.{sum_by-set, count_by-le-length}
use Rattle.std.proofs.lemmas.Option.{slice_get_within}
use Rattle.ada_program.specs.declared.program.Finalization.{Finalization}
use Rattle.ada_program.specs.declared.program.Operations.{Operations}
use Rattle.ada_program.specs.declared.program.ProcedureNo.{ProcedureNo}
use Rattle.ada_program.specs.declared.program.Program.{Program}
use Rattle.ada_program.specs.declared.program.TypeDefinition.{TypeDefinition}
use Rattle.ada_program.specs.Controlled.{operations_of}
use Rattle.ada_program.specs.ProgramForm.{BodyForm, ProgramForm, program_form}
use Rattle.ada_program.specs.Walks.{Walks}
use Rattle.ada_program.specs.WellFormed.{finalization_of, IsWellFormed}
use Rattle.ada_circles.specs.Circles.{Overrides, Creates, Leads, LeadsTo, leads, leads_on, IsFirstCircle}
use Rattle.ada_meaning.specs.Pace.{body_operations, operation_operations, type_operations, cost_within}
use Rattle.ada_settled.specs.Laws.{NoCircleSettles}
use Rattle.ada_settled.proofs.Costs.{AgreeWithin, free, stands, declarations_agree, declarations_are_free}

-- Marks of procedures.

-- A procedure is marked by its number.
abbrev IsMarked : (marks : List Bool) → (number : ℕ) → Type 0
IsMarked marks number = get_or marks number false ≡ true

-- None is at first.
abbrev unmarked : {X : Type 0} → List X → List Bool
unmarked xs = map (λ x. false) xs

none_marked : {X : Type 0} (xs : List X) (n : ℕ) → ¬ IsMarked (unmarked xs) n
none_marked [] n marked = cc marked
none_marked (x ∷ xs) zero marked = cc marked
none_marked (x ∷ xs) (suc n) marked = none_marked xs n marked

-- One that is marked for the first time leaves one less that is not.
abbrev one_unless : Bool → ℕ
one_unless mark = if not mark then 1 else 0

one_less : (marks : List Bool) (n : ℕ) → n < length marks → get_or marks n false ≡ false → count_by not (set marks n true) + 1 ≡ count_by not marks
one_less marks n below is =
    let before : one_unless (get_or marks n false) ≡ 1 = ap one_unless is in
    let changed : count_by not (set marks n true) + one_unless (get_or marks n false) ≡ count_by not marks + 0 =
    sum_by-set one_unless marks n true false below in
    omega (arith, before, changed)

-- The procedure of a number.
abbrev procedure : ℕ → ProcedureNo
procedure n = record { 0 = n }

module _ (program : Program) where
  abbrev p : ProgramForm
  p = program_form program

  abbrev items : List TypeDefinition
  items = program.types.items

  -- What the declarations of bodies create that override operations costs nothing where a call of an operation does.
  operation_is_free : (o : Option ProcedureNo) → operation_operations items free p.bodies o ≡ 0
  operation_is_free None = refl
  operation_is_free (Some q) = found (slice_get p.bodies q.0)
    where
      found : (o : Option BodyForm) → body_operations items free o ≡ 0
      found None = refl
      found (Some b) = declarations_are_free items b.declarations

  operations_are_free : (o : Operations) → type_operations items free p.bodies o ≡ 0
  operations_are_free o =
      let initialize = operation_is_free o.initialize in
      let adjust = operation_is_free o.adjust in
      let finalize = operation_is_free o.finalize in
      omega (arith, initialize, adjust, finalize)

  module _ (well : IsWellFormed p) (none : IsFirstCircle p None) where
    -- No procedure leads back to itself that creates an object.
    no_circle : (q : ProcedureNo) (t : ℕ) → Creates p q t → ¬ LeadsTo p q q
    no_circle q t creates circle = none creates.0.start_spot (q, creates.0, creates.3, refl, circle)

    -- The operations that are found by the number of a controlled part are those of its type.
    overrides_there : (u : ℕ) (f : Finalization) (q : ProcedureNo) → finalization_of p.types u ≡ Some f → Overrides (operations_of items f.number.0) q
        → Overrides f.operations q
    overrides_there u f q is overrides = subst (λ (o : Operations). Overrides o q) (stands items well.types_fit u f is).operations overrides

    -- Each procedure that is marked leads to each that overrides an operation of the type of this number.
    abbrev Lead : (marks : List Bool) → (of : ℕ) → Type 0
    Lead marks of = (s q : ProcedureNo) → IsMarked marks s.0 → Overrides (operations_of items of) q → LeadsTo p s q

    -- Two costs agree where one procedure more is marked, and these lead to what overrides the operations of a type.
    abbrev AgreeFurther : (marks : List Bool) → (f g : (of : ℕ) → ℕ) → Type 0
    AgreeFurther marks f g =
        (of : ℕ) (more : List Bool) → length more ≡ length p.bodies → count_by not more + 1 ≡ count_by not marks → Lead more of → f of ≡ g of

    -- Once what overrides an operation is marked, too, all these lead to what overrides an operation of a part of what its declarations create.
    leads_further :
        (of : ℕ) (marks : List Bool) (q : ProcedureNo) → Overrides (operations_of items of) q → Lead marks of → (t : ℕ) → Creates p q t
        → (u first part : ℕ) (f : Finalization) → Walks p.types t first part u → finalization_of p.types u ≡ Some f → Lead (set marks q.0 true) f.number.0
    leads_further of marks q overrides lead t creates u first part f walks is s r marked more =
        let one : Leads p q r = (t, creates, (u, first, part, f, walks, is, overrides_there u f r is more)) in
        elim (cases_eq s.0 q.0) [
          | inl same ↦ subst (λ (k : ProcedureNo). LeadsTo p k r) (ap procedure (sym same)) (leads one)
          | inr other ↦ leads_on (lead s q (sym (get_or-set_other marks q.0 s.0 true false other) ∙ marked) overrides) one
        ]

    -- So the two costs agree on what the declarations of its body create.
    body_agrees :
        (of : ℕ) (marks : List Bool) (q : ProcedureNo) → length marks ≡ length p.bodies → Overrides (operations_of items of) q → Lead marks of
        → (f g : (of : ℕ) → ℕ) → AgreeFurther marks f g → body_operations items f (slice_get p.bodies q.0) ≡ body_operations items g (slice_get p.bodies q.0)
    body_agrees of marks q long overrides lead f g agree = found (slice_get p.bodies q.0) refl
      where
        by_mark :
            (t : ℕ) → Creates p q t → (mark : Bool) → get_or marks q.0 false ≡ mark → q.0 < length marks
            → AgreeWithin items well.types_fit f g t
        by_mark t creates true marked below u first part h walks is = absurd (no_circle q t creates (lead q q marked overrides))
        by_mark t creates false marked below u first part h walks is =
            agree h.number.0 (set marks q.0 true) (length-set marks q.0 true ∙ long) (one_less marks q.0 below marked)
            (leads_further of marks q overrides lead t creates u first part h walks is)

        found : (o : Option BodyForm) → slice_get p.bodies q.0 ≡ o → body_operations items f o ≡ body_operations items g o
        found None at = refl
        found (Some b) at =
            let within = slice_get_within p.bodies q.0 b at in
            declarations_agree items well.types_fit f g b.declarations
            (λ i d t there makes. by_mark t (b, i, d, at, there, makes) (get_or marks q.0 false) refl (omega (arith, within, long)))

    -- So they do on what the declarations create of all that override operations of the type.
    operation_agrees :
        (of : ℕ) (marks : List Bool) → length marks ≡ length p.bodies → Lead marks of → (f g : (of : ℕ) → ℕ) → AgreeFurther marks f g
        → (o : Option ProcedureNo) → ((q : ProcedureNo) → o ≡ Some q → Overrides (operations_of items of) q)
        → operation_operations items f p.bodies o ≡ operation_operations items g p.bodies o
    operation_agrees of marks long lead f g agree None overrides = refl
    operation_agrees of marks long lead f g agree (Some q) overrides = body_agrees of marks q long (overrides q refl) lead f g agree

    operations_agree :
        (of : ℕ) (marks : List Bool) → length marks ≡ length p.bodies → Lead marks of → (f g : (of : ℕ) → ℕ) → AgreeFurther marks f g
        → type_operations items f p.bodies (operations_of items of) ≡ type_operations items g p.bodies (operations_of items of)
    operations_agree of marks long lead f g agree =
        let o = operations_of items of in
        let initialize = operation_agrees of marks long lead f g agree o.initialize (λ q is. inl is) in
        let adjust = operation_agrees of marks long lead f g agree o.adjust (λ q is. inr (inl is)) in
        let finalize = operation_agrees of marks long lead f g agree o.finalize (λ q is. inr (inr is)) in
        omega (arith, initialize, adjust, finalize)

    -- A call of an operation of the type costs no more once as many calls are followed through as procedures are not marked.
    settles :
        (n of : ℕ) (marks : List Bool) → length marks ≡ length p.bodies → count_by not marks ≤ n → Lead marks of
        → cost_within items p.bodies (suc n) of ≡ cost_within items p.bodies n of
    settles zero of marks long few lead =
        let same = operations_agree of marks long lead (cost_within items p.bodies zero) free
        (λ to more last less further. absurd (omega (arith, less, few))) in
        let nothing = operations_are_free (operations_of items of) in
        omega (arith, same, nothing)
    settles (suc n) of marks long few lead =
        let same = operations_agree of marks long lead (cost_within items p.bodies (suc n)) (cost_within items p.bodies n)
        (λ to more last less further. settles n to more last (omega (arith, less, few)) further) in
        omega (arith, same)

pub no_circle_settles : NoCircleSettles
no_circle_settles program well none of =
    let bodies = (program_form program).bodies in
    let long = length-map bodies (λ b. false) in
    let few = count_by-le-length not (unmarked bodies) in
    let same = settles program well none (length bodies) of (unmarked bodies) long (omega (arith, few, long))
    (λ s q marked overrides. absurd (none_marked bodies s.0 marked)) in
    omega (arith, same)
