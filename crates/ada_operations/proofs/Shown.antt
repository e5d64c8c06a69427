-- The examples.

use Rattle.std.proofs.Common.{◌≡◌, ℕ, zero, suc, Bool, true, false, nat_lt, [], ◌∷◌, ◌⊎◌, refl, sym, ap, ◌∙◌, subst, inl, inr, arith}
use Rattle.std.specs.Prelude.{Some}
use Rattle.std.specs.List.{slice_get}
use Rattle.ada_deeds.specs.Does.{Does, does, callee_does}
use Rattle.ada_deeds.specs.declared.deed.Callee.{Callee}
use Rattle.ada_deeds.specs.declared.deed.Callee.TheVariants as callee
use Rattle.ada_deeds.specs.declared.deed.Deed.{Deed}
use Rattle.ada_deeds.specs.declared.deed.Deed.TheVariants as deed
use Rattle.ada_deeds.specs.declared.deed.Operation.TheVariants.{Adjust, Finalize}
use Rattle.ada_operations.specs.Created.{collections_of, is_created_before}
use Rattle.ada_operations.specs.Example.{second, types, finalize, breaking, AllAreBroken, obeying}
use Rattle.ada_program.specs.Form.{allocates_default, assigns, frees, raises, no_stmts, a_stmt}
use Rattle.ada_program.specs.declared.program.TypeNo.{TypeNo}
use Rattle.ada_program.specs.declared.program.VariableKind.TheVariants as variable
use Rattle.ada_program.specs.WellFormed.{designated_type, finalization_of}
use Rattle.ada_deeds.specs.declared.deed.Operation.{Operation}
use Rattle.ada_operations.specs.Operations.{overriding_in, AdjustsOrFinalizes, has_component, HasPart, itself, within, BreaksRule, HasFault, is_before, rule_number}
use Rattle.ada_operations.specs.declared.rule.OperationRule.{OperationRule}
use Rattle.ada_operations.specs.declared.rule.OperationRule.TheVariants.{FinalizeOrder, MayPropagate, FinalizeAllocates}
use Rattle.ada_operations.proofs.Orders.{at_one_place}
use Rattle.ada_program.specs.declared.program.Exception.TheVariants.{ConstraintError, ProgramError, StorageError, EndError, Declared}
use Rattle.ada_program.specs.declared.program.ProcedureNo.{ProcedureNo}
use Rattle.ada_program.specs.ProgramForm.{BodyForm}
use Rattle.ada_text.specs.declared.spot.Spot.{Spot}

some_same : {X : Type 0} {x y : X} → Some x ≡ Some y → x ≡ y
some_same h = cc h

-- There is one body.

only_one : (b c : BodyForm) (n : ℕ) → slice_get (b ∷ []) n ≡ Some c → (n ≡ 0) × (b ≡ c)
only_one b c zero h = (refl, some_same h)
only_one b c (suc n) h = absurd (cc h)

-- The body that breaks all rules.

frees_own : Does breaking (deed.Frees (record { 0 = 3 })) (callee.Procedure (record { 0 = 0 }))
frees_own = does refl (λ c. false) (λ c is. absurd (cc is)) refl

raises_error : Does breaking (deed.Raises ProgramError) (callee.Procedure (record { 0 = 0 }))
raises_error = does refl (λ c. false) (λ c is. absurd (cc is)) refl

creates_one : Does breaking deed.Allocates (callee.Procedure (record { 0 = 0 }))
creates_one = does refl (λ c. false) (λ c is. absurd (cc is)) refl

abbrev body : BodyForm
body = finalize (variable.Access (record { 0 = 3 }))
    (a_stmt (assigns second (allocates_default 3)) (a_stmt (frees 3 second) (a_stmt (raises ProgramError) no_stmts)))

abbrev here : Spot
here = record { line = 5; column = 4 }

order_broken : HasFault breaking (here, FinalizeOrder)
order_broken = (record { 0 = 0 }, body, refl, refl, (2, inr refl, (3, inl frees_own, (3, 2, refl, itself, refl))))

least : (rule : OperationRule) → nat_lt (rule_number rule) 8 ≡ false
least FinalizeOrder = refl
least MayPropagate = refl
least FinalizeAllocates = refl

first_broken : (f : Spot × OperationRule) → HasFault breaking f → is_before f (here, FinalizeOrder) ≡ false
first_broken f (q, b, at, begins, breaks) =
    let same = (only_one body b q.0 at).1 in
    subst (λ (s : Spot). is_before (s, f.1) (here, FinalizeOrder) ≡ false) (ap (λ (c : BodyForm). c.start_spot) same ∙ begins)
    (at_one_place here FinalizeOrder f.1 (least f.1))

pub all_broken : AllAreBroken
all_broken = record {
  order = order_broken;
  raises = (record { 0 = 0 }, body, refl, refl, (2, inr refl, (ProgramError, raises_error)));
  allocates = (record { 0 = 0 }, body, refl, refl, (2, refl, creates_one));
  first = (order_broken, first_broken);
}

-- The body that breaks none.

abbrev plain : Callee
plain = callee.Parts Finalize (record { 0 = 0 })

nothing_finalized : (d : Deed) → ¬ (Does obeying d plain)
nothing_finalized d (does of known each h) = absurd (cc h)

-- What it does by what it frees.
abbrev frees_one : Deed
frees_one = deed.Frees (record { 0 = 1 })

does_frees : (d : Deed) (known : Callee → Bool) → known plain ≡ false → callee_does obeying known d (callee.Procedure (record { 0 = 0 })) ≡ true → d ≡ frees_one
does_frees (deed.Raises ConstraintError) known none h = absurd (grind (arith, none, h))
does_frees (deed.Raises ProgramError) known none h = absurd (grind (arith, none, h))
does_frees (deed.Raises StorageError) known none h = absurd (grind (arith, none, h))
does_frees (deed.Raises EndError) known none h = absurd (grind (arith, none, h))
does_frees (deed.Raises (Declared e)) known none h = absurd (grind (arith, none, h))
does_frees (deed.Frees t) known none h = ap (λ (n : ℕ). deed.Frees (record { 0 = n })) (grind (arith, none, h))
does_frees (deed.Follows t) known none h = absurd (grind (arith, none, h))
does_frees deed.Allocates known none h = absurd (grind (arith, none, h))
does_frees deed.Calls known none h = absurd (grind (arith, none, h))

only_frees : (d : Deed) → Does obeying d (callee.Procedure (record { 0 = 0 })) → d ≡ frees_one
only_frees d (does of known each h) = go (known plain) refl
  where
    go : (k : Bool) → known plain ≡ k → d ≡ frees_one
    go false is = does_frees d known is h
    go true is = absurd (nothing_finalized d (each plain is))

freed_type : (t : TypeNo) → deed.Frees t ≡ frees_one → t.0 ≡ 1
freed_type t h = go (deed.Frees t) refl h
  where
    number : Deed → ℕ
    number (deed.Raises e) = 0
    number (deed.Frees u) = u.0
    number (deed.Follows u) = 0
    number deed.Allocates = 0
    number deed.Calls = 0

    go : (d : Deed) → d ≡ deed.Frees t → deed.Frees t ≡ frees_one → t.0 ≡ 1
    go d is same = ap number same

-- What has a part.
has_inside : (whole : ℕ) → HasPart types 2 whole → (2 ≡ whole) ⊎ ((c : ℕ) × (has_component (slice_get types whole) c ≡ true))
has_inside w itself = inl refl
has_inside w (within {component} {whole} h e) = inr (component, e)

operated : (r : ℕ) (o : Operation) (q : ProcedureNo) → overriding_in o (finalization_of types r) ≡ Some q → r ≡ 2
operated zero o q h = absurd (cc h)
operated (suc zero) o q h = absurd (cc h)
operated (suc (suc zero)) o q h = refl
operated (suc (suc (suc zero))) o q h = absurd (cc h)
operated (suc (suc (suc (suc zero)))) o q h = absurd (cc h)
operated (suc (suc (suc (suc (suc n))))) o q h = absurd (cc h)

before_all : (t whole : ℕ) → designated_type types t ≡ Some whole → HasPart types 2 whole → is_created_before (collections_of obeying) 1 t ≡ true
before_all zero w is h = absurd (cc is)
before_all (suc zero) w is h = elim (has_inside 0 (subst (HasPart types 2) (sym (some_same is)) h)) [
  | inl same ↦ absurd (omega (arith, same))
  | inr inside ↦ absurd (cc inside.1)
]
before_all (suc (suc zero)) w is h = absurd (cc is)
before_all (suc (suc (suc zero))) w is h = refl
before_all (suc (suc (suc (suc zero)))) w is h = absurd (cc is)
before_all (suc (suc (suc (suc (suc n))))) w is h = absurd (cc is)

in_time : (r u t whole : ℕ) → r ≡ 2 → u ≡ 1 → designated_type types t ≡ Some whole → HasPart types r whole → is_created_before (collections_of obeying) u t ≡ false → ⊥
in_time r u t w two one is h behind =
    absurd (cc (sym (before_all t w is (subst (λ (n : ℕ). HasPart types n w) two h)) ∙ ap (λ (n : ℕ). is_created_before (collections_of obeying) n t) (sym one) ∙ behind))

the_type : (q : ProcedureNo) (r : ℕ) → AdjustsOrFinalizes obeying q r → r ≡ 2
the_type q r (inl is) = operated r Adjust q is
the_type q r (inr is) = operated r Finalize q is

breaks_none : (q : ProcedureNo) (rule : OperationRule) → ((d : Deed) → Does obeying d (callee.Procedure q) → d ≡ frees_one) → ¬ (BreaksRule obeying q rule)
breaks_none q FinalizeOrder only (r, is, (u, inl done, (t, w, des, has, behind))) =
    in_time r u t w (the_type q r is) (freed_type (record { 0 = u }) (only (deed.Frees (record { 0 = u })) done)) des has behind
breaks_none q FinalizeOrder only (r, is, (u, inr follows, late)) = absurd (cc (only (deed.Follows (record { 0 = u })) follows))
breaks_none q MayPropagate only (r, is, (e, done)) = absurd (cc (only (deed.Raises e) done))
breaks_none q FinalizeAllocates only (r, is, allocates) = absurd (cc (only deed.Allocates allocates))

pub none_broken : (f : Spot × OperationRule) → ¬ (HasFault obeying f)
none_broken f (q, b, at, begins, breaks) =
    let zeroth : q.0 ≡ 0 = (only_one (finalize (variable.Access (record { 0 = 1 })) (a_stmt (frees 1 second) no_stmts)) b q.0 at).0 in
    breaks_none q f.1
    (λ d h. only_frees d (subst (λ (n : ℕ). Does obeying d (callee.Procedure (record { 0 = n }))) zeroth h)) breaks
