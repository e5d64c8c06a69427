-- Where an exception comes out of no procedure that overrides Adjust or Finalize, it comes out of no Adjust and no Finalize of an object (7.6).

use Rattle.std.proofs.Common.{◌≡◌, ℕ, Bool, true, false, List, [], ◌∷◌, refl, ap, inl, inr}
use Rattle.std.proofs.lemmas.Bool.{or_cases}
use Rattle.std.specs.List.{slice_get}
use Rattle.std.specs.Prelude.{Option, Some, None}
use Rattle.ada_deeds.specs.Does.{operations_do, Does}
use Rattle.ada_deeds.specs.Forms.{overriding, overriding_does, own_does, part_does, components_do}
use Rattle.ada_deeds.specs.Laws.{IsWithin, IsClosed, DoesRaise, KeepsIn}
use Rattle.ada_deeds.specs.Within.{does_by}
use Rattle.ada_deeds.specs.declared.deed.Callee.{Callee}
use Rattle.ada_deeds.specs.declared.deed.Callee.TheVariants as callee
use Rattle.ada_deeds.specs.declared.deed.Deed.TheVariants.{Raises}
use Rattle.ada_deeds.specs.declared.deed.Operation.{Operation}
use Rattle.ada_deeds.specs.declared.deed.Operation.TheVariants.{Initialize, Adjust, Finalize}
use Rattle.ada_deeds.proofs.More.{callee_stays, least}
use Rattle.ada_deeds.proofs.Starting.{closes}
use Rattle.ada_deeds.proofs.Within.{counts_are_enough, is_one_of}
use Rattle.ada_program.specs.declared.program.Exception.{Exception}
use Rattle.ada_program.specs.declared.program.Finalization.{Finalization}
use Rattle.ada_program.specs.declared.program.PartKind.{PartKind}
use Rattle.ada_program.specs.declared.program.PartKind.TheVariants as part
use Rattle.ada_program.specs.declared.program.ProcedureNo.{ProcedureNo}
use Rattle.ada_program.specs.ProgramForm.{PartForm, TypeForm, record_of, access_to, object_of, ProgramForm}
use Rattle.ada_program.specs.WellFormed.{finalization_in, finalization_of}

-- Out of which callees it may come then.
abbrev others : ProgramForm → Exception → Callee → Bool
others p e (callee.Procedure procedure) = does_by p (Raises e) (callee.Procedure procedure)
others p e (callee.Parts Initialize t) = does_by p (Raises e) (callee.Parts Initialize t)
others p e (callee.Parts Adjust t) = false
others p e (callee.Parts Finalize t) = false

others_do : (p : ProgramForm) (e : Exception) → IsWithin (others p e) (does_by p (Raises e))
others_do p e (callee.Procedure procedure) h = h
others_do p e (callee.Parts Initialize t) h = h
others_do p e (callee.Parts Adjust t) h = absurd (cc h)
others_do p e (callee.Parts Finalize t) h = absurd (cc h)

-- An operation that is none of these, where no procedure that overrides it lets the exception out.
module _ (p : ProgramForm) (e : Exception) (operation : Operation)
    (kept : (t : ℕ) (f : Finalization) (procedure : ProcedureNo) → finalization_of p.types t ≡ Some f → overriding operation f.operations ≡ Some procedure → ¬ DoesRaise p procedure.0 e)
    (none : (u : ℕ) → others p e (callee.Parts operation (record { 0 = u })) ≡ true → ⊥) where
  overriding_none : (t : ℕ) (f : Finalization) (o : Option ProcedureNo) → finalization_of p.types t ≡ Some f → overriding operation f.operations ≡ o →
      overriding_does (others p e) o ≡ true → ⊥
  overriding_none t f None at is h = cc h
  overriding_none t f (Some procedure) at is h = kept t f procedure at is ((counts_are_enough p (Raises e) (callee.Procedure procedure)).0 h)

  own_none : (t : ℕ) (f : Option Finalization) → finalization_of p.types t ≡ f → own_does (others p e) operation f ≡ true → ⊥
  own_none t None at h = cc h
  own_none t (Some f) at h = overriding_none t f (overriding operation f.operations) at refl h

  part_none : (kind : PartKind) → part_does (others p e) operation kind ≡ true → ⊥
  part_none (part.Elementary kind) h = cc h
  part_none (part.Record t) h = none t.0 h
  part_none part.Parent h = cc h

  components_none : (ps : List PartForm) → components_do (others p e) operation ps ≡ true → ⊥
  components_none [] h = cc h
  components_none (q ∷ ps) h =
      elim (or_cases (part_does (others p e) operation q.kind) (components_do (others p e) operation ps) h) [ inl x ↦ part_none q.kind x | inr y ↦ components_none ps y ]

  operations_none : (t : ℕ) (o : Option TypeForm) → slice_get p.types t ≡ o → operations_do (others p e) operation o ≡ true → ⊥
  operations_none t None at h = cc h
  operations_none t (Some (record_of name ps components f)) at h =
      elim (or_cases (own_does (others p e) operation f) (components_do (others p e) operation ps) h) [
        | inl x ↦ own_none t f (ap finalization_in at) x
        | inr y ↦ components_none ps y
      ]
  operations_none t (Some (access_to name designated pool)) at h = cc h
  operations_none t (Some (object_of record_type)) at h = cc h

module _ (p : ProgramForm) (e : Exception) (keeps : KeepsIn p e) where
  closed : (c : Callee) → Does p (Raises e) c → IsClosed p (Raises e) (others p e)
  closed c out (callee.Procedure procedure) h =
      (counts_are_enough p (Raises e) (callee.Procedure procedure)).1
      (closes p (Raises e) (callee.Procedure procedure) (is_one_of p (Raises e) c out)
      (callee_stays p (Raises e) (others p e) (does_by p (Raises e)) (others_do p e) (callee.Procedure procedure) h))
  closed c out (callee.Parts Initialize t) h =
      (counts_are_enough p (Raises e) (callee.Parts Initialize t)).1
      (closes p (Raises e) (callee.Parts Initialize t) (is_one_of p (Raises e) c out)
      (callee_stays p (Raises e) (others p e) (does_by p (Raises e)) (others_do p e) (callee.Parts Initialize t) h))
  closed c out (callee.Parts Adjust t) h =
      absurd (operations_none p e Adjust (λ u f procedure at is. keeps u f procedure at (inl is)) (λ u x. cc x) t.0 (slice_get p.types t.0) refl h)
  closed c out (callee.Parts Finalize t) h =
      absurd (operations_none p e Finalize (λ u f procedure at is. keeps u f procedure at (inr is)) (λ u x. cc x) t.0 (slice_get p.types t.0) refl h)

  pub no_adjust_raises : (t : ℕ) → ¬ Does p (Raises e) (callee.Parts Adjust (record { 0 = t }))
  no_adjust_raises t = λ out.
      let c = callee.Parts Adjust (record { 0 = t }) in
      let h : false ≡ true = least p (Raises e) (others p e) (closed c out) c out in
      cc

  pub no_finalize_raises : (t : ℕ) → ¬ Does p (Raises e) (callee.Parts Finalize (record { 0 = t }))
  no_finalize_raises t = λ out.
      let c = callee.Parts Finalize (record { 0 = t }) in
      let h : false ≡ true = least p (Raises e) (others p e) (closed c out) c out in
      cc
