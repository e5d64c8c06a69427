-- The example of a part that lies within a part.

use Rattle.std.proofs.Common.{◌≡◌, ℕ, ◌+◌, zero, suc, Bool, true, false, ◌||◌, ◌==◌, refl, sym, ap, ◌∙◌, subst, ◌⊎◌, inl, inr, arith}
use Rattle.std.proofs.lemmas.Bool.{or_cases, or_left, or_right, eqb-true, eq-eqb}
use Rattle.std.specs.List.{Contains, slice_get}
use Rattle.std.specs.Prelude.{◌↔◌, Some}
use Rattle.ada_deeds.specs.Does.{Does, does, callee_does}
use Rattle.ada_deeds.specs.Implicit.{implicit_of}
use Rattle.ada_deeds.specs.declared.deed.Callee.{Callee}
use Rattle.ada_deeds.specs.declared.deed.Callee.TheVariants as callee
use Rattle.ada_deeds.specs.declared.deed.Deed.{Deed}
use Rattle.ada_deeds.specs.declared.deed.Deed.TheVariants.{Raises, Frees, Follows}
use Rattle.ada_deeds.specs.declared.deed.Operation.{Operation}
use Rattle.ada_deeds.specs.declared.deed.Operation.TheVariants.{Initialize, Adjust, Finalize}
use Rattle.ada_operations.specs.Example.{nested_types, nested, PartsOfPartsCount}
use Rattle.ada_operations.specs.Laws.{HasObjectsOf, OperationDoes, CreationDoes}
use Rattle.ada_operations.specs.Operations.{overriding_in, has_component, HasPart, itself, within}
use Rattle.ada_operations.proofs.Parts.{starts_raise, starts_free, adjusts_free, ends_free, ends_reach}
use Rattle.ada_program.specs.declared.program.Exception.{Exception}
use Rattle.ada_program.specs.declared.program.Exception.TheVariants.{ConstraintError, ProgramError, StorageError, EndError, Declared}
use Rattle.ada_program.specs.declared.program.ProcedureNo.{ProcedureNo}
use Rattle.ada_program.specs.WellFormed.{finalization_of}

some_same : {X : Type 0} {x y : X} → Some x ≡ Some y → x ≡ y
some_same h = cc h

-- What the procedures do.

-- Objects of the first type have no controlled parts.
abbrev plain : Callee
plain = callee.Parts Finalize (record { 0 = 0 })

nothing_finalized : (d : Deed) → ¬ (Does nested d plain)
nothing_finalized d (does of known each h) = absurd (cc h)

abbrev procedure : ℕ → Callee
procedure n = callee.Procedure (record { 0 = n })

unknown : (d : Deed) (known : Callee → Bool) → ((c : Callee) → known c ≡ true → Does nested d c) → known plain ≡ false
unknown d known each = go (known plain) refl
  where
    go : (k : Bool) → known plain ≡ k → known plain ≡ false
    go false is = is
    go true is = absurd (nothing_finalized d (each plain is))

frees_one : (q t : ℕ) (known : Callee → Bool) → known plain ≡ false → callee_does nested known (Frees (record { 0 = t })) (procedure q) ≡ true → t ≡ q + 1
frees_one zero t known none h = grind (arith, none, h)
frees_one (suc zero) t known none h = grind (arith, none, h)
frees_one (suc (suc zero)) t known none h = grind (arith, none, h)
frees_one (suc (suc (suc q))) t known none h = absurd (cc h)

-- Each frees objects of one access type.
only_frees : (q t : ℕ) → Does nested (Frees (record { 0 = t })) (procedure q) → t ≡ q + 1
only_frees q t (does of known each h) = frees_one q t known (unknown (Frees (record { 0 = t })) known each) h

follows_none : (q t : ℕ) (known : Callee → Bool) → known plain ≡ false → callee_does nested known (Follows (record { 0 = t })) (procedure q) ≡ true → ⊥
follows_none zero t known none h = grind (arith, none, h)
follows_none (suc zero) t known none h = grind (arith, none, h)
follows_none (suc (suc zero)) t known none h = grind (arith, none, h)
follows_none (suc (suc (suc q))) t known none h = absurd (cc h)

nothing_followed : (q t : ℕ) → ¬ (Does nested (Follows (record { 0 = t })) (procedure q))
nothing_followed q t (does of known each h) = follows_none q t known (unknown (Follows (record { 0 = t })) known each) h

raises_one : (q : ℕ) (e : Exception) (known : Callee → Bool) → known plain ≡ false → callee_does nested known (Raises e) (procedure q) ≡ true → e ≡ ProgramError
raises_one zero ConstraintError known none h = absurd (grind (arith, none, h))
raises_one zero ProgramError known none h = refl
raises_one zero StorageError known none h = absurd (grind (arith, none, h))
raises_one zero EndError known none h = absurd (grind (arith, none, h))
raises_one zero (Declared e) known none h = absurd (grind (arith, none, h))
raises_one (suc zero) ConstraintError known none h = absurd (grind (arith, none, h))
raises_one (suc zero) ProgramError known none h = refl
raises_one (suc zero) StorageError known none h = absurd (grind (arith, none, h))
raises_one (suc zero) EndError known none h = absurd (grind (arith, none, h))
raises_one (suc zero) (Declared e) known none h = absurd (grind (arith, none, h))
raises_one (suc (suc zero)) ConstraintError known none h = absurd (grind (arith, none, h))
raises_one (suc (suc zero)) ProgramError known none h = refl
raises_one (suc (suc zero)) StorageError known none h = absurd (grind (arith, none, h))
raises_one (suc (suc zero)) EndError known none h = absurd (grind (arith, none, h))
raises_one (suc (suc zero)) (Declared e) known none h = absurd (grind (arith, none, h))
raises_one (suc (suc (suc q))) e known none h = absurd (cc h)

only_raises : (q : ℕ) (e : Exception) → Does nested (Raises e) (procedure q) → e ≡ ProgramError
only_raises q e (does of known each h) = raises_one q e known (unknown (Raises e) known each) h

raises_error : Does nested (Raises ProgramError) (procedure 0)
raises_error = does refl (λ c. false) (λ c is. absurd (cc is)) refl

-- The operations.

-- The procedure that overrides one.
abbrev number : Operation → ℕ
number Initialize = 0
number Adjust = 1
number Finalize = 2

the_procedure : (o : Operation) → overriding_in o (finalization_of nested_types 4) ≡ Some (record { 0 = number o })
the_procedure Initialize = refl
the_procedure Adjust = refl
the_procedure Finalize = refl

frees_its_own : (o : Operation) → Does nested (Frees (record { 0 = number o + 1 })) (procedure (number o))
frees_its_own Initialize = does refl (λ c. false) (λ c is. absurd (cc is)) refl
frees_its_own Adjust = does refl (λ c. false) (λ c is. absurd (cc is)) refl
frees_its_own Finalize = does refl (λ c. false) (λ c is. absurd (cc is)) refl

-- Those of Inner are overridden, and no others.
overridden : (r : ℕ) (o : Operation) (q : ProcedureNo) → overriding_in o (finalization_of nested_types r) ≡ Some q → (r ≡ 4) × (q.0 ≡ number o)
overridden zero o q h = absurd (cc h)
overridden (suc zero) o q h = absurd (cc h)
overridden (suc (suc zero)) o q h = absurd (cc h)
overridden (suc (suc (suc zero))) o q h = absurd (cc h)
overridden (suc (suc (suc (suc zero)))) o q h = (refl, ap (λ (n : ProcedureNo). n.0) (some_same (sym h ∙ the_procedure o)))
overridden (suc (suc (suc (suc (suc zero))))) Initialize q h = absurd (cc h)
overridden (suc (suc (suc (suc (suc zero))))) Adjust q h = absurd (cc h)
overridden (suc (suc (suc (suc (suc zero))))) Finalize q h = absurd (cc h)
overridden (suc (suc (suc (suc (suc (suc zero)))))) Initialize q h = absurd (cc h)
overridden (suc (suc (suc (suc (suc (suc zero)))))) Adjust q h = absurd (cc h)
overridden (suc (suc (suc (suc (suc (suc zero)))))) Finalize q h = absurd (cc h)
overridden (suc (suc (suc (suc (suc (suc (suc zero))))))) o q h = absurd (cc h)
overridden (suc (suc (suc (suc (suc (suc (suc (suc zero)))))))) o q h = absurd (cc h)
overridden (suc (suc (suc (suc (suc (suc (suc (suc (suc zero))))))))) o q h = absurd (cc h)
overridden (suc (suc (suc (suc (suc (suc (suc (suc (suc (suc zero)))))))))) o q h = absurd (cc h)
overridden (suc (suc (suc (suc (suc (suc (suc (suc (suc (suc (suc n))))))))))) o q h = absurd (cc h)

-- What they do for objects of Link.

does_it : (o : Operation) (d : Deed) → Does nested d (procedure (number o)) → OperationDoes nested o d 7
does_it o d h = (6, inr (inl refl), (4, record { 0 = number o }, within {component = 5} (within {component = 4} itself refl) refl, the_procedure o, h))

done_by : (o : Operation) (d : Deed) (u : ℕ) → OperationDoes nested o d u → Does nested d (procedure (number o))
done_by o d u (whole, objects, (r, q, lies, overrides, h)) =
    subst (λ (n : ℕ). Does nested d (procedure n)) (overridden r o q overrides).1 h

-- Two tests are one.
same_test : (a b : Bool) → (a ≡ true → b ≡ true) → (b ≡ true → a ≡ true) → a ≡ b
same_test true b f g = sym (f refl)
same_test false true f g = g refl
same_test false false f g = refl

-- An operation frees what its procedure frees.
frees_to : (o : Operation) (t : ℕ) → OperationDoes nested o (Frees (record { 0 = t })) 7 → t ≡ number o + 1
frees_to o t h = only_frees (number o) t (done_by o (Frees (record { 0 = t })) 7 h)

frees_from : (o : Operation) (t : ℕ) → t ≡ number o + 1 → OperationDoes nested o (Frees (record { 0 = t })) 7
frees_from o t is =
    does_it o (Frees (record { 0 = t }))
    (subst (λ (n : ℕ). Does nested (Frees (record { 0 = n })) (procedure (number o))) (sym is) (frees_its_own o))

raised : (e : Exception) → Contains ((implicit_of nested).start_raises 7) e ↔ (e ≡ ProgramError)
raised e = (λ h. to ((starts_raise nested 7 e).0 h), λ is. (starts_raise nested 7 e).1 (inl (from is)))
  where
    to : CreationDoes nested (Raises e) 7 → e ≡ ProgramError
    to (inl h) = only_raises 0 e (done_by Initialize (Raises e) 7 h)
    to (inr h) = only_raises 2 e (done_by Finalize (Raises e) 7 h)

    from : e ≡ ProgramError → OperationDoes nested Initialize (Raises e) 7
    from is = subst (λ (x : Exception). OperationDoes nested Initialize (Raises x) 7) (sym is) (does_it Initialize (Raises ProgramError) raises_error)

started : (t : ℕ) → (implicit_of nested).start_frees 7 t ≡ ((t == 1) || (t == 3))
started t =
    same_test ((implicit_of nested).start_frees 7 t) ((t == 1) || (t == 3)) (λ h. to ((starts_free nested 7 t).0 h)) (λ h. (starts_free nested 7 t).1 (from h))
  where
    to : CreationDoes nested (Frees (record { 0 = t })) 7 → ((t == 1) || (t == 3)) ≡ true
    to (inl h) = or_left (t == 1) (t == 3) (eq-eqb t 1 (frees_to Initialize t h))
    to (inr h) = or_right (t == 1) (t == 3) (eq-eqb t 3 (frees_to Finalize t h))

    from : ((t == 1) || (t == 3)) ≡ true → CreationDoes nested (Frees (record { 0 = t })) 7
    from h = elim (or_cases (t == 1) (t == 3) h) [
      | inl one ↦ inl (frees_from Initialize t (eqb-true t 1 one))
      | inr three ↦ inr (frees_from Finalize t (eqb-true t 3 three))
    ]

adjusted : (t : ℕ) → (implicit_of nested).adjust_frees 7 t ≡ (t == 2)
adjusted t =
    same_test ((implicit_of nested).adjust_frees 7 t) (t == 2) (λ h. eq-eqb t 2 (frees_to Adjust t ((adjusts_free nested 7 t).0 h)))
    (λ h. (adjusts_free nested 7 t).1 (frees_from Adjust t (eqb-true t 2 h)))

ended : (t : ℕ) → (implicit_of nested).end_frees 7 t ≡ (t == 3)
ended t =
    same_test ((implicit_of nested).end_frees 7 t) (t == 3) (λ h. eq-eqb t 3 (frees_to Finalize t ((ends_free nested 7 t).0 h)))
    (λ h. (ends_free nested 7 t).1 (frees_from Finalize t (eqb-true t 3 h)))

reached : (t : ℕ) → (implicit_of nested).end_reaches 7 t ≡ (t == 3)
reached t =
    same_test ((implicit_of nested).end_reaches 7 t) (t == 3) (λ h. to ((ends_reach nested 7 t).0 h))
    (λ h. (ends_reach nested 7 t).1 (inl (frees_from Finalize t (eqb-true t 3 h))))
  where
    to : OperationDoes nested Finalize (Frees (record { 0 = t })) 7 ⊎ OperationDoes nested Finalize (Follows (record { 0 = t })) 7 → (t == 3) ≡ true
    to (inl h) = eq-eqb t 3 (frees_to Finalize t h)
    to (inr h) = absurd (nothing_followed 2 t (done_by Finalize (Follows (record { 0 = t })) 7 h))

-- Objects of the first type have no part but themselves.

only_itself : (r whole : ℕ) → HasPart nested_types r whole → (r ≡ whole) ⊎ ((c : ℕ) × (has_component (slice_get nested_types whole) c ≡ true))
only_itself r _ itself = inl refl
only_itself r _ (within {component} {whole} lies has) = inr (component, has)

plain_objects : (whole : ℕ) → HasObjectsOf nested_types 1 whole → whole ≡ 0
plain_objects whole (inl (same, is)) = absurd (cc is)
plain_objects whole (inr (inl is)) = sym (some_same is)
plain_objects whole (inr (inr is)) = absurd (cc is)

nothing_done : (o : Operation) (d : Deed) → ¬ (OperationDoes nested o d 1)
nothing_done o d (whole, objects, (r, q, lies, overrides, h)) =
    go (only_itself r 0 (subst (HasPart nested_types r) (plain_objects whole objects) lies))
  where
    go : (r ≡ 0) ⊎ ((c : ℕ) × (has_component (slice_get nested_types 0) c ≡ true)) → ⊥
    go (inl same) = let four = (overridden r o q overrides).0 in absurd (omega (arith, same, four))
    go (inr (c, has)) = absurd (cc has)

nothing_ended : (t : ℕ) → (implicit_of nested).end_frees 1 t ≡ false
nothing_ended t =
    same_test ((implicit_of nested).end_frees 1 t) false
    (λ h. absurd (nothing_done Finalize (Frees (record { 0 = t })) ((ends_free nested 1 t).0 h))) (λ h. absurd (cc h))

pub parts_of_parts : PartsOfPartsCount
parts_of_parts = record { raised = raised; started = started; adjusted = adjusted; ended = ended; reached = reached; plain = nothing_ended }
