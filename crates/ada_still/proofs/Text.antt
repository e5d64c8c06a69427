-- Own types stand beside the others, and are those of still procedures, where the text says so.

use Rattle.std.proofs.Common.{◌≡◌, ◌⊎◌, inl, inr, ℕ, zero, suc, ◌+◌, ◌&&◌, ◌||◌, not, Bool, true, false, List, [], ◌∷◌, Option, Some, None, arith, refl, subst, sym, ◌∙◌}
use Rattle.std.specs.List.{list_all, slice_get}
use Rattle.std.proofs.lemmas.Bool.{and_parts}
use Rattle.ada_program.specs.declared.program.ProcedureNo.{ProcedureNo}
use Rattle.ada_program.specs.Controlled.{operations_in}
use Rattle.ada_program.specs.Nested.{is_one_of, callees_of}
use Rattle.ada_program.specs.ProgramForm.{TypeForm, BodyForm, ProgramForm, main_body, program_form}
use Rattle.ada_program.specs.WellFormed.{IsWellFormed, finalization_in, finalization_of, reached_components}
use Rattle.ada_still.specs.Still.{collects_none, is_still, CollectStill}
use Rattle.ada_still.specs.Beside.{are_other_kinds, NestsBeside, AllNestBeside, NestBeside}
use Rattle.ada_still.specs.Text.{naming_inside, operation_stays, operations_stay, type_is_beside, are_beside, nest_by_text, are_still_by_text, still_by_text, StillByText, BesideByText, OneCollectionByText}
use Rattle.ada_still.proofs.Beside.{one_collection}
use Rattle.ada_still.proofs.Room.{collecting_nests}
use Rattle.ada_still.proofs.Turns.{all_turn, all_step}

module _ (own : ℕ → Bool) (p : ProgramForm) (well : IsWellFormed p) where
  -- So each operation nests beside the others.
  operation_beside : (o : Option ProcedureNo) → operation_stays own p o ≡ true → NestsBeside own p.types (callees_of p) o
  operation_beside None is = tt
  operation_beside (Some procedure) is = λ around opened none. collecting_nests p well own procedure.0 is around opened none

  operations_beside : (t : ℕ) → operations_stay own p (operations_in (finalization_of p.types t)) ≡ true → AllNestBeside own p.types (callees_of p) (operations_in (finalization_of p.types t))
  operations_beside t is =
      let o = operations_in (finalization_of p.types t) in
      let all = and_parts (operation_stays own p o.initialize && operation_stays own p o.adjust) (operation_stays own p o.finalize) is in
      let two = and_parts (operation_stays own p o.initialize) (operation_stays own p o.adjust) all.0 in
      (operation_beside o.initialize two.0, operation_beside o.adjust two.1, operation_beside o.finalize all.1)

  -- What holds of each type of the program holds of its number.
  type_beside : (n i t : ℕ) (ts : List TypeForm) (found : TypeForm) → t ≡ n + i → are_beside own p n ts ≡ true → slice_get ts i ≡ Some found → type_is_beside own p t ≡ true
  type_beside n i t [] found at all there = absurd (cc there)
  type_beside n zero t (u ∷ ts) found at all there =
      let same : n ≡ t = omega (arith, at) in
      subst (λ (m : ℕ). type_is_beside own p m ≡ true) same (and_parts (type_is_beside own p n) (are_beside own p (suc n) ts) all).0
  type_beside n (suc i) t (u ∷ ts) found at all there =
      type_beside (suc n) i t ts found (omega (arith, at)) (and_parts (type_is_beside own p n) (are_beside own p (suc n) ts) all).1 there

  module _ (all : are_beside own p 0 p.types ≡ true) where
    parts_of : (t : ℕ) (found : TypeForm) → slice_get p.types t ≡ Some found
        → ((own t || are_other_kinds own (reached_components p.types t)) ≡ true) × (operations_stay own p (operations_in (finalization_of p.types t)) ≡ true)
    parts_of t found there =
        and_parts (own t || are_other_kinds own (reached_components p.types t)) (operations_stay own p (operations_in (finalization_of p.types t)))
        (type_beside 0 t t p.types found (omega arith) all there)

    other_of : (b : Bool) (t : ℕ) → own t ≡ b → b ≡ false → (b || are_other_kinds own (reached_components p.types t)) ≡ true → are_other_kinds own (reached_components p.types t) ≡ true
    other_of true t is none so = absurd (cc none)
    other_of false t is none so = so

    others_by : (t : ℕ) (found : Option TypeForm) → slice_get p.types t ≡ found → own t ≡ false → are_other_kinds own (reached_components p.types t) ≡ true
    others_by t None there is = rw there refl
    others_by t (Some found) there is = other_of (own t) t refl is (parts_of t found there).0

    operations_by : (t : ℕ) (found : Option TypeForm) → slice_get p.types t ≡ found → AllNestBeside own p.types (callees_of p) (operations_in (finalization_of p.types t))
    operations_by t None there =
        subst (λ (form : Option TypeForm). AllNestBeside own p.types (callees_of p) (operations_in (finalization_in form))) (sym there) (tt, tt, tt)
    operations_by t (Some found) there = operations_beside t (parts_of t found there).1

  pub beside_by_text : nest_by_text own p ≡ true → NestBeside own p
  beside_by_text is =
      let both = and_parts (are_beside own p 0 p.types) (list_all (λ stays. stays) (naming_inside own p)) is in
      record {
        others = λ t. others_by both.0 t (slice_get p.types t) refl;
        calls = λ procedure all others without.
            all_turn own (λ access. true) p.types (naming_inside own p) (callees_of p) (all_step own (λ access. true) p.types p.bodies [] [] tt) both.1 procedure all others
            (record {
              other = λ t other at. let so = without t in cc (so, other, at);
              within = λ t at. absurd (cc at);
              back = λ t may at. (and_parts (is_one_of all t) (not (own t)) (sym (without t) ∙ at)).0;
            });
        operations = λ t. operations_by both.0 t (slice_get p.types t) refl;
      }

module _ (own : ℕ → Bool) (p : ProgramForm) where
  -- Each body that creates something of own types is still.
  either_of : (b c : Bool) → (b || c) ≡ true → (b ≡ true) ⊎ (c ≡ true)
  either_of true c is = inl refl
  either_of false c is = inr is

  body_by_text : (n i place : ℕ) (bs : List BodyForm) (b : BodyForm) → place ≡ n + i → are_still_by_text own p n bs ≡ true → slice_get bs i ≡ Some b
      → (collects_none own b ≡ true) ⊎ (is_still p place ≡ true)
  body_by_text n i place [] b at all there = absurd (cc there)
  body_by_text n zero place (c ∷ bs) b at all there =
      let same : c ≡ b = cc there in
      let here : n ≡ place = omega (arith, at) in
      subst (λ (d : BodyForm). (collects_none own d ≡ true) ⊎ (is_still p place ≡ true)) same
      (subst (λ (m : ℕ). (collects_none own c ≡ true) ⊎ (is_still p m ≡ true)) here
      (either_of (collects_none own c) (is_still p n) (and_parts (collects_none own c || is_still p n) (are_still_by_text own p (suc n) bs) all).0))
  body_by_text n (suc i) place (c ∷ bs) b at all there =
      body_by_text (suc n) i place bs b (omega (arith, at)) (and_parts (collects_none own c || is_still p n) (are_still_by_text own p (suc n) bs) all).1 there

  pub collect_by_text : still_by_text own p ≡ true → CollectStill own p
  collect_by_text is =
      let both = and_parts (collects_none own (main_body p)) (are_still_by_text own p 0 p.bodies) is in
      record { main = both.0; bodies = λ procedure b there. body_by_text 0 procedure procedure p.bodies b (omega arith) both.1 there }

pub still_law : StillByText
still_law p own is = collect_by_text own p is

pub beside_law : BesideByText
beside_law p well own is = beside_by_text own p well is

pub one_collection_law : OneCollectionByText
one_collection_law program well nest frees_own own still beside =
    one_collection program well nest frees_own own (collect_by_text own (program_form program) still) (beside_by_text own (program_form program) well beside)
