-- What is freed next (13.11.2) is of an access type of which the running body, or what it calls, may free objects, where it frees by the instances for what it frees.

use Rattle.std.proofs.Common.{◌≡◌, ℕ, Bool, true, false, List, [], ◌∷◌, refl, subst, inl, inr}
use Rattle.std.specs.Prelude.{Some}
use Rattle.std.proofs.lemmas.Bool.{and_parts, or_left}
use Rattle.ada_effects.specs.Effects.{effects_of, body_frees, ending_frees, stmt_frees, stmts_free}
use Rattle.ada_program.specs.Form.{frees, a_stmt}
use Rattle.ada_program.specs.Freed.{statement_frees_own, statements_free_own}
use Rattle.ada_program.specs.ProgramForm.{main_body}
use Rattle.ada_program.specs.WellFormed.{callable_in, is_access, is_this, path_access}
use Rattle.ada_meaning.specs.declared.state.Mode.{Mode}
use Rattle.ada_meaning.specs.declared.state.Mode.TheVariants.{Running}
use Rattle.ada_meaning.specs.declared.state.Value.{Value}
use Rattle.ada_meaning.specs.Frame.{Does, FreesIn}
use Rattle.ada_meaning.specs.State.{Master}
use Rattle.ada_meaning.specs.Step.{places_of, operands_of}
use Rattle.ada_meaning.specs.Named.{Object, State}
use Rattle.ada_typed.proofs.Control as typed
use Rattle.ada_typed.proofs.Control.{OwnBody}
use Rattle.ada_typed.proofs.OfKinds.{statement_is_of_kind, statements_are_of_kind}
use Rattle.ada_sound.proofs.Assigned.{freed_at, this_is}
use Rattle.ada_sound.proofs.Calm.{ends_operation}
use Rattle.ada_sound.proofs.Invariant.{Control, CoveredIn, Known, Ready, ReadyIn}
use Rattle.ada_sound.proofs.Standing.{FreesAmong}
use Rattle.ada_sound.proofs.Steps.{RunsTyped, runs_typed}

-- Among some access types are all those of which the running body, or what it calls, may free objects.
module _ (known : Known) (whole : OwnBody known.program) (may : ℕ → Bool)
    (covers : (t : ℕ) → CoveredIn known.implicit known.program t → is_access known.program.types t ≡ true → may t ≡ true) where
  next_among : (k : Control) (heap : List Object) (places operands : List Value) (masters : List Master)
      → (ends_operation k ≡ false → RunsTyped known heap k places operands) → ReadyIn known Running k heap places operands masters → FreesAmong may k
  next_among [] heap places operands masters typing ready = tt
  next_among (Does (a_stmt (frees access path) fs) ∷ k) heap places operands masters typing (inr half) = absurd (cc (half.is))
  next_among (Does (a_stmt (frees access path) fs) ∷ k) heap places operands masters typing (inl w) =
      let p = known.program in
      let freed = path_access p.types p.variables path in
      let effects = effects_of known.implicit p in
      let fits = (typing refl).1 in
      let own : is_this access freed ≡ true =
      (and_parts (statement_frees_own p.types p.variables (frees access path)) (statements_free_own p.types p.variables fs) (fits.2.1 whole)).0 in
      let kinds = (and_parts (statement_is_of_kind p.types p.variables p.texts p.exceptions (callable_in p) fits.1 (frees access path))
      (statements_are_of_kind p.types p.variables p.texts p.exceptions (callable_in p) fits.1 fs) fits.2.0).0 in
      let at = freed_at p.types p.variables access path (and_parts _ _ kinds).0 in
      let here : freed ≡ Some access = this_is access freed own in
      let same : at.0 ≡ access = let other = at.1 in cc (here, other) in
      let among : stmts_free p.types p.variables effects access (a_stmt (frees access path) fs) ≡ true =
      or_left (stmt_frees p.types p.variables effects access (frees access path)) (stmts_free p.types p.variables effects access fs)
      (or_left (is_this access freed) (ending_frees known.implicit access freed) own) in
      covers access (w.rest.5 access among).1 (rw same at at.3)
  next_among (FreesIn access c ∷ k) heap places operands masters typing w =
      let releasing = w.rest.1 in
      covers access (releasing.covered access releasing.frees_own) (releasing.own access releasing.frees_own)
  next_among (f ∷ k) heap places operands masters typing ready = tt

  -- What is freed next is among these.
  pub frees_among : (s : State) → Ready known s → typed.TypedIn known.program s → s.mode ≡ Running → FreesAmong may s.control
  frees_among s ready typing runs =
      next_among s.control s.heap (places_of s.activations) (operands_of s.activations) s.masters (runs_typed known s typing runs)
      (subst (λ (mode : Mode). ReadyIn known mode s.control s.heap (places_of s.activations) (operands_of s.activations) s.masters) runs ready.1)

-- So it is among all those.
pub frees_covered : (known : Known) (s : State) → Ready known s → typed.TypedIn known.program s → OwnBody known.program → s.mode ≡ Running
    → FreesAmong (λ t. body_frees known.program.types (effects_of known.implicit known.program) (main_body known.program) t) s.control
frees_covered known s ready typing whole runs =
    frees_among known whole (λ t. body_frees known.program.types (effects_of known.implicit known.program) (main_body known.program) t) (λ t covered is. covered) s ready typing runs
