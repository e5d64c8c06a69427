-- The variables of a body as they are judged stand for its tracked components.

use Rattle.std.proofs.Common.{◌≡◌, ℕ, zero, suc, ◌+◌, true, List, [], ◌∷◌, ◌++◌, length, map, Option, Some, None, refl, ap, ◌∙◌, arith}
use Rattle.std.specs.Prelude.{is_some}
use Rattle.std.specs.List.{slice_get}
use Rattle.ada_program.specs.declared.program.TypeNo.{TypeNo}
use Rattle.ada_program.specs.declared.program.VariableKind.{VariableKind}
use Rattle.ada_program.specs.declared.program.VariableKind.TheVariants as variable
use Rattle.ada_program.specs.ProgramForm.{TypeForm, VariableForm}
use Rattle.ada_program.specs.WellFormed.{kind_in, variable_kind, borrows_in, selected_kind}
use Rattle.ada_flow.specs.Tracking.{tracks_behind, kind_or_integer, tracked_variable, judged}
use Rattle.ada_judged.specs.Obeying.{StandForTracked}

behind : {A : Type 0} (xs ys : List A) (n i : ℕ) → n ≡ length xs + i → slice_get (xs ++ ys) n ≡ slice_get ys i
behind [] ys n i e = ap (slice_get ys) (omega (arith, e))
behind (x ∷ xs) ys zero i e = absurd (omega (arith, e))
behind (x ∷ xs) ys (suc n) i e = behind xs ys n i (omega (arith, e))

mapped : {A : Type 0} {B : Type 0} (f : A → B) (xs : List A) (i : ℕ) (x : A) → slice_get xs i ≡ Some x → slice_get (map f xs) i ≡ Some (f x)
mapped f [] i x e = absurd (cc)
mapped f (y ∷ ys) zero x e = let same : y ≡ x = cc in ap (λ z. Some (f z)) same
mapped f (y ∷ ys) (suc i) x e = mapped f ys i x e

there : (kind : Option VariableKind) → is_some kind ≡ true → Some (kind_or_integer kind) ≡ kind
there None e = absurd (cc)
there (Some kind) e = refl

module _ (types : List TypeForm) (object : TypeNo) where
  -- Where a variable stands behind those of the body, for each component that has a kind.
  behind_stand :
      (v : VariableForm) (vs : List VariableForm) (c : ℕ) (cs : List ℕ) → v.kind ≡ variable.Record object
      → ((i d : ℕ) → slice_get (c ∷ cs) i ≡ Some d → is_some (selected_kind types (Some v.kind) d) ≡ true)
      → StandForTracked types (judged types (tracks_behind (length (v ∷ vs)) (c ∷ cs)) (v ∷ vs)) (tracks_behind (length (v ∷ vs)) (c ∷ cs))
  behind_stand v vs c cs formal each =
      let made = tracked_variable types (Some v.kind) in
      let at = λ (i d : ℕ) (e : slice_get (c ∷ cs) i ≡ Some d).
      let found : slice_get ((v ∷ vs) ++ map made (c ∷ cs)) (length (v ∷ vs) + i) ≡ Some (made d) =
      behind (v ∷ vs) (map made (c ∷ cs)) (length (v ∷ vs) + i) i refl ∙ mapped made (c ∷ cs) i d e in
      found in
      record {
        object = object;
        formal = ap (λ (kind : VariableKind). Some kind) formal;
        kinds = λ i d e. ap kind_in (at i d e) ∙ there (selected_kind types (Some v.kind) d) (each i d e);
        owners = λ i d e. ap borrows_in (at i d e);
      }

  -- So it is of the body whose formal parameter is a record that has these components.
  pub judged_stand :
      (vs : List VariableForm) (cs : List ℕ) → variable_kind vs 0 ≡ Some (variable.Record object)
      → ((i c : ℕ) → slice_get cs i ≡ Some c → is_some (selected_kind types (variable_kind vs 0) c) ≡ true)
      → StandForTracked types (judged types (tracks_behind (length vs) cs) vs) (tracks_behind (length vs) cs)
  judged_stand [] cs formal each = absurd (cc)
  judged_stand (v ∷ vs) [] formal each = record { object = object; formal = formal; kinds = λ i c e. absurd (cc); owners = λ i c e. absurd (cc) }
  judged_stand (v ∷ vs) (c ∷ cs) formal each = behind_stand v vs c cs (cc) each
