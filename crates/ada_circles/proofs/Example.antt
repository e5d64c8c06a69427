-- The examples.

use Rattle.std.proofs.Common.{◌≡◌, ℕ, zero, suc, false, List, [], ◌∷◌, refl, sym, ap, ◌∙◌, subst, inl, inr, arith}
use Rattle.std.specs.List.{slice_get}
use Rattle.std.specs.Prelude.{Some}
use Rattle.ada_text.specs.declared.spot.Spot.{Spot}
use Rattle.ada_program.specs.declared.program.Finalization.{Finalization}
use Rattle.ada_program.specs.declared.program.Operations.{Operations}
use Rattle.ada_program.specs.declared.program.PartKind.TheVariants as part
use Rattle.ada_program.specs.declared.program.ProcedureNo.{ProcedureNo}
use Rattle.ada_program.specs.ProgramForm.{PartForm, BodyForm, ProgramForm}
use Rattle.ada_program.specs.Walks.{Walks, ends, into}
use Rattle.ada_program.specs.WellFormed.{finalization_of, IsWellFormed}
use Rattle.ada_quiet.specs.First.{stands_before}
use Rattle.ada_quiet.proofs.Unused.{some_same}
use Rattle.ada_circles.specs.Circles.{declaration_makes, Overrides, OverridesWithin, Creates, Leads, LeadsTo, leads, leads_on, HasCircle}
use Rattle.ada_circles.specs.Example.{here, procedure, finalized_by, two_types, declaring_body, declaring, enclosing_body, enclosing, box_body, chest_body, idle_body, crossing, passing, ExamplesFit, ItsOwnTypeIsTold, TheFirstIsTold, ABlockMayDeclare, LeadingAlonePasses}

declaring_fits : IsWellFormed declaring
declaring_fits = record {
  types_fit = refl;
  components_lie = refl;
  operations_fit = refl;
  pools_fit = refl;
  variables_fit = refl;
  creates_in_order = refl;
  collections_first = refl;
  collections_fit = refl;
  has_one_each = refl;
  initials_fit = refl;
  statements_fit = refl;
  handlers_fit = refl;
  bodies_fit = refl;
}

enclosing_fits : IsWellFormed enclosing
enclosing_fits = record {
  types_fit = refl;
  components_lie = refl;
  operations_fit = refl;
  pools_fit = refl;
  variables_fit = refl;
  creates_in_order = refl;
  collections_first = refl;
  collections_fit = refl;
  has_one_each = refl;
  initials_fit = refl;
  statements_fit = refl;
  handlers_fit = refl;
  bodies_fit = refl;
}

crossing_fits : IsWellFormed crossing
crossing_fits = record {
  types_fit = refl;
  components_lie = refl;
  operations_fit = refl;
  pools_fit = refl;
  variables_fit = refl;
  creates_in_order = refl;
  collections_first = refl;
  collections_fit = refl;
  has_one_each = refl;
  initials_fit = refl;
  statements_fit = refl;
  handlers_fit = refl;
  bodies_fit = refl;
}

passing_fits : IsWellFormed passing
passing_fits = record {
  types_fit = refl;
  components_lie = refl;
  operations_fit = refl;
  pools_fit = refl;
  variables_fit = refl;
  creates_in_order = refl;
  collections_first = refl;
  collections_fit = refl;
  has_one_each = refl;
  initials_fit = refl;
  statements_fit = refl;
  handlers_fit = refl;
  bodies_fit = refl;
}

pub fit : ExamplesFit
fit = (declaring_fits, enclosing_fits, crossing_fits, passing_fits)

-- Where each body of a program begins at one place or behind it, so does each that leads back to itself.
starts : (p : ProgramForm) → ((n : ℕ) (b : BodyForm) → slice_get p.bodies n ≡ Some b → stands_before b.start_spot here ≡ false) →
    (s : Spot) → HasCircle p s → stands_before s here ≡ false
starts p all s (q, b, at, begins, round) = subst (λ (x : Spot). stands_before x here ≡ false) begins (all q.0 b at)

-- Finalize declares a Box, whose Finalize it is.

leads_itself : LeadsTo declaring (procedure 0) (procedure 0)
leads_itself = leads (0, (declaring_body, 0, _, refl, refl, refl), (0, 0, 0, _, ends, refl, inr (inr refl)))

declared : (n : ℕ) (b : BodyForm) → slice_get (declaring_body ∷ []) n ≡ Some b → stands_before b.start_spot here ≡ false
declared zero b is = subst (λ (x : BodyForm). stands_before x.start_spot here ≡ false) (some_same is) refl
declared (suc n) b is = absurd (cc is)

pub its_own : ItsOwnTypeIsTold
its_own = ((procedure 0, declaring_body, refl, refl, leads_itself), starts declaring declared)

-- The Finalize of a Box declares a Chest, and that of a Chest a Box.

to_chest : Leads crossing (procedure 0) (procedure 1)
to_chest = (1, (box_body, 0, _, refl, refl, refl), (1, 0, 0, _, ends, refl, inr (inr refl)))

to_box : Leads crossing (procedure 1) (procedure 0)
to_box = (0, (chest_body, 0, _, refl, refl, refl), (0, 0, 0, _, ends, refl, inr (inr refl)))

crossed : (n : ℕ) (b : BodyForm) → slice_get (box_body ∷ chest_body ∷ []) n ≡ Some b → stands_before b.start_spot here ≡ false
crossed zero b is = subst (λ (x : BodyForm). stands_before x.start_spot here ≡ false) (some_same is) refl
crossed (suc zero) b is = subst (λ (x : BodyForm). stands_before x.start_spot here ≡ false) (some_same is) refl
crossed (suc (suc n)) b is = absurd (cc is)

pub crosses : TheFirstIsTold
crosses = (
  leads_on {between = procedure 1} (leads to_chest) to_box,
  leads_on {between = procedure 0} (leads to_box) to_chest,
  ((procedure 0, box_body, refl, refl, leads_on {between = procedure 1} (leads to_chest) to_box), starts crossing crossed),
)

-- Where the Box is declared in a block, the body has no declarations of its own.

creates_none : (q : ProcedureNo) (t : ℕ) → ¬ Creates enclosing q t
creates_none q t (b, i, d, at, there, makes) = go q.0 at
  where
    go : (n : ℕ) → slice_get (enclosing_body ∷ []) n ≡ Some b → ⊥
    go zero is = absurd (cc (ap (λ (x : BodyForm). slice_get x.declarations i) (some_same is) ∙ there))
    go (suc n) is = absurd (cc is)

leads_nowhere : (a b : ProcedureNo) → ¬ LeadsTo enclosing a b
leads_nowhere a b (leads (t, creates, overrides)) = creates_none a t creates
leads_nowhere a b (leads_on {between} more (t, creates, overrides)) = creates_none between t creates

pub may_declare : ABlockMayDeclare
may_declare s (q, b, at, begins, round) = absurd (leads_nowhere q q round)

-- Where the Finalize of a Chest declares nothing, only that of a Box leads to something, and that is the Finalize of a Chest.

creates_chest : (q : ProcedureNo) (t : ℕ) → Creates passing q t → (q.0 ≡ 0) × (t ≡ 1)
creates_chest q t (b, i, d, at, there, makes) = go q.0 at
  where
    made : (i : ℕ) → slice_get box_body.declarations i ≡ Some d → t ≡ 1
    made zero is = sym (some_same (ap (declaration_makes two_types) (some_same is) ∙ makes))
    made (suc i) is = absurd (cc is)

    go : (n : ℕ) → slice_get (box_body ∷ idle_body ∷ []) n ≡ Some b → (n ≡ 0) × (t ≡ 1)
    go zero is = (refl, made i (ap (λ (x : BodyForm). slice_get x.declarations i) (some_same is) ∙ there))
    go (suc zero) is = absurd (cc (ap (λ (x : BodyForm). slice_get x.declarations i) (some_same is) ∙ there))
    go (suc (suc n)) is = absurd (cc is)

-- No declared component of a Chest is a record.
within_chest : (t first last u : ℕ) → t ≡ 1 → Walks two_types t first last u → u ≡ 1
within_chest t first last u same ends = same
within_chest t first last u same (into i c k w n name ps components f p v is there holds numbered inside) =
    absurd (go i (subst (λ (qs : List PartForm). slice_get qs i ≡ Some p) parts there))
  where
    parts : ps ≡ record { name = []; kind = part.Parent; first = 0; part = 0 } ∷ []
    parts = cc (sym (ap (slice_get two_types) same) ∙ is)

    go : (j : ℕ) → slice_get (record { name = []; kind = part.Parent; first = 0; part = 0 } ∷ []) j ≡ Some p → ⊥
    go zero at = absurd (cc (ap (λ (x : PartForm). x.kind) (some_same at) ∙ holds))
    go (suc j) at = absurd (cc at)

-- What overrides an operation of a Chest is the second procedure.
overrides_one : (q : ProcedureNo) (o : Operations) → finalized_by 1 ≡ o → Overrides o q → q.0 ≡ 1
overrides_one q o is (inl initialize) = absurd (cc (ap (λ (x : Operations). x.initialize) is ∙ initialize))
overrides_one q o is (inr (inl adjust)) = absurd (cc (ap (λ (x : Operations). x.adjust) is ∙ adjust))
overrides_one q o is (inr (inr finalize)) = sym (ap (λ (x : ProcedureNo). x.0) (some_same (ap (λ (x : Operations). x.finalize) is ∙ finalize)))

overrides_chest : (q : ProcedureNo) → OverridesWithin two_types 1 q → q.0 ≡ 1
overrides_chest q (u, first, last, f, walks, at, overrides) =
    let same : u ≡ 1 = within_chest 1 first last u refl walks in
    let is = some_same (subst (λ (x : ℕ). finalization_of two_types x ≡ Some f) same at) in
    overrides_one q f.operations (ap (λ (g : Finalization). g.operations) is) overrides

leads_chest : (a b : ProcedureNo) → Leads passing a b → (a.0 ≡ 0) × (b.0 ≡ 1)
leads_chest a b (t, creates, overrides) =
    let (from, is) = creates_chest a t creates in
    (from, overrides_chest b (subst (λ (x : ℕ). OverridesWithin two_types x b) is overrides))

leads_forth : (a b : ProcedureNo) → LeadsTo passing a b → (a.0 ≡ 0) × (b.0 ≡ 1)
leads_forth a b (leads one) = leads_chest a b one
leads_forth a b (leads_on {between} more one) = ((leads_forth a between more).0, (leads_chest between b one).1)

leads_once : LeadsTo passing (procedure 0) (procedure 1)
leads_once = leads (1, (box_body, 0, _, refl, refl, refl), (1, 0, 0, _, ends, refl, inr (inr refl)))

pub passes : LeadingAlonePasses
passes = (leads_once, λ s (q, b, at, begins, round). let (from, to) = leads_forth q q round in absurd (omega (arith, from, to)))
