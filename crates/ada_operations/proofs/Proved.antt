-- The laws.

use Rattle.std.proofs.Common.{◌≡◌, ℕ, zero, suc, ◌+◌, Bool, true, false, ◌&&◌, ◌||◌, ◌==◌, nat_lt, List, [], ◌∷◌, map, take, length, refl, sym, ap, ◌∙◌, inl, inr, arith}
use Rattle.std.specs.Prelude.{Option, Some, None}
use Rattle.std.specs.List.{filter, slice_get}
use Rattle.std.proofs.Math.Bool.{and-false}
use Rattle.std.proofs.Math.Path.{fun_ext}
use Rattle.std.proofs.lemmas.Bool.{and_parts}
use Rattle.ada_deeds.specs.Does.{Does, does, called_does, callee_does, is_deed_of, operations_do}
use Rattle.ada_deeds.specs.Forms.{body_does, components_do, creation_does, overriding, overriding_does, own_does, part_does, parts_do}
use Rattle.ada_deeds.specs.Implicit.{exceptions_of, implicit_of, record_at}
use Rattle.ada_deeds.specs.Within.{callee_count, does_by, does_within}
use Rattle.ada_deeds.specs.declared.deed.Callee.{Callee}
use Rattle.ada_deeds.specs.Follows.{selectors_follow}
use Rattle.ada_deeds.specs.declared.deed.Callee.TheVariants as callee
use Rattle.ada_deeds.specs.declared.deed.Deed.{Deed}
use Rattle.ada_deeds.specs.declared.deed.Deed.TheVariants as deed
use Rattle.ada_deeds.specs.declared.deed.Operation.{Operation}
use Rattle.ada_deeds.specs.declared.deed.Operation.TheVariants.{Initialize, Adjust, Finalize}
use Rattle.ada_effects.specs.Effects.{Implicit, no_implicit}
use Rattle.ada_operations.specs.Operations.{overriding_in, IsFirstFault, is_before, rule_number}
use Rattle.ada_operations.specs.View.{BreaksIn}
use Rattle.ada_operations.specs.declared.rule.OperationRule.{OperationRule}
use Rattle.ada_operations.specs.declared.rule.OperationRule.TheVariants.{FinalizeOrder, MayPropagate, FinalizeAllocates}
use Rattle.ada_program.specs.declared.program.Exception.{Exception}
use Rattle.ada_operations.proofs.Checking.{fault_from}
use Rattle.ada_operations.proofs.Silence.{neither, NothingFollowed, does_nothing}
use Rattle.ada_program.specs.declared.program.Finalization.{Finalization}
use Rattle.ada_program.specs.declared.program.FormalMode.{FormalMode}
use Rattle.ada_program.specs.declared.program.FormalMode.TheVariants.{In, InOut}
use Rattle.ada_program.specs.declared.program.ProcedureNo.{ProcedureNo}
use Rattle.ada_program.specs.declared.program.TypeNo.{TypeNo}
use Rattle.ada_program.specs.declared.program.VariableKind.{VariableKind}
use Rattle.ada_program.specs.declared.program.VariableKind.TheVariants as variable
use Rattle.ada_program.specs.declared.program.PartKind.{PartKind}
use Rattle.ada_program.specs.declared.program.PartKind.TheVariants as part
use Rattle.ada_program.specs.ProgramForm.{PartForm, TypeForm, record_of, access_to, object_of, VariableForm, BodyForm, ProgramForm}
use Rattle.ada_program.specs.WellFormed.{Profile, profile_of, callable_in, stands_for, operates_on, is_operation, overrides_rightly, has_operations, have_operations, IsWellFormed, finalization_in, finalization_of, kind_held, variable_kind}
use Rattle.ada_quiet.specs.Quiet.{is_near, holds_elementary, is_quiet_body, operations_are_quiet}
use Rattle.ada_quiet.proofs.Unused.{IsAmong, quiet_among}
use Rattle.ada_text.specs.declared.spot.Spot.{Spot}
use Rattle.std.proofs.lemmas.Option.{slice_get-map}
use Rattle.std.specs.Prelude.{option_map}
use Rattle.ada_program.specs.WellFormed.{selectors_kind}

some_same : {X : Type 0} {x y : X} → Some x ≡ Some y → x ≡ y
some_same h = cc h

-- The formal parameter of an operation.

is_record : (types : List TypeForm) (r : ℕ) (kind : VariableKind) → stands_for types r kind ≡ true → (object : TypeNo) × (kind ≡ variable.Record object)
is_record types r variable.Integer h = absurd (cc h)
is_record types r variable.Boolean h = absurd (cc h)
is_record types r (variable.Access access) h = absurd (cc h)
is_record types r (variable.Record object) h = (object, refl)

one_record : (types : List TypeForm) (r : ℕ) (kinds : List VariableKind) (modes : List FormalMode) → operates_on types r kinds modes ≡ true →
    (object : TypeNo) × (kinds ≡ variable.Record object ∷ [])
one_record types r [] modes h = absurd (cc h)
one_record types r (kind ∷ []) [] h = absurd (cc h)
one_record types r (kind ∷ []) (In ∷ modes) h = absurd (cc h)
one_record types r (kind ∷ []) (InOut ∷ []) h = let (object, is) = is_record types r kind h in (object, ap (λ (k : VariableKind). k ∷ []) is)
one_record types r (kind ∷ []) (InOut ∷ m ∷ modes) h = absurd (cc h)
one_record types r (kind ∷ other ∷ kinds) modes h = absurd (cc h)

head_same : {X : Type 0} {x y : X} {xs ys : List X} → x ∷ xs ≡ y ∷ ys → x ≡ y
head_same h = cc h

first_kind : (variables : List VariableForm) (n : ℕ) (kind : VariableKind) → map kind_held (take n variables) ≡ kind ∷ [] → variable_kind variables 0 ≡ Some kind
first_kind variables zero kind h = absurd (cc h)
first_kind [] (suc n) kind h = absurd (cc h)
first_kind (v ∷ vs) (suc n) kind h = ap (λ (k : VariableKind). Some k) (head_same h)

-- No quiet path follows an access value, if the first variable is a record.
near : (types : List TypeForm) (variables : List VariableForm) (object : TypeNo) → variable_kind variables 0 ≡ Some (variable.Record object) → NothingFollowed types variables
near types variables object is path q t =
    go path.root path.selectors (and_parts (is_near path.root path.selectors) (holds_elementary (selectors_kind types (variable_kind variables path.root) path.selectors)) q).0
  where
    go : (root : ℕ) (cs : List ℕ) → is_near root cs ≡ true → selectors_follow types t (variable_kind variables root) cs ≡ false
    go root [] n = refl
    go zero (c ∷ []) n = ap (λ (k : Option VariableKind). selectors_follow types t k (c ∷ [])) is
    go zero (c ∷ d ∷ cs) n = absurd (cc n)
    go (suc x) (c ∷ cs) n = absurd (cc n)

-- What overrides an operation is an operation.

have_at : (types : List TypeForm) (callable : List Profile) (n r m : ℕ) (ts : List TypeForm) (d : TypeForm) → m ≡ n + r → slice_get ts r ≡ Some d →
    have_operations types callable n ts ≡ true → has_operations types callable m (finalization_in (Some d)) ≡ true
have_at types callable n r m [] d is at h = absurd (cc at)
have_at types callable n zero m (t ∷ ts) d is at h =
    let here : m ≡ n = omega (arith, is) in
    ap (λ (k : ℕ). has_operations types callable k (finalization_in (Some d))) here
    ∙ ap (λ (x : TypeForm). has_operations types callable n (finalization_in (Some x))) (sym (some_same at))
    ∙ (and_parts (has_operations types callable n (finalization_in (Some t))) (have_operations types callable (1 + n) ts) h).0
have_at types callable n (suc r) m (t ∷ ts) d is at h =
    have_at types callable (1 + n) r m ts d (omega (arith, is)) at
    (and_parts (has_operations types callable n (finalization_in (Some t))) (have_operations types callable (1 + n) ts) h).1

-- The operations of a type.
own : (o : Option Finalization) (operation : Operation) (q : ProcedureNo) → overriding_in operation o ≡ Some q → (f : Finalization) × (o ≡ Some f) × IsAmong f.operations q
own None operation q is = absurd (cc is)
own (Some f) Initialize q is = (f, refl, inl is)
own (Some f) Adjust q is = (f, refl, inr (inl is))
own (Some f) Finalize q is = (f, refl, inr (inr is))

rightly : (types : List TypeForm) (callable : List Profile) (r : ℕ) (f : Finalization) (q : ProcedureNo) → IsAmong f.operations q →
    has_operations types callable r (Some f) ≡ true → overrides_rightly types callable r (Some q) ≡ true
rightly types callable r f q one h =
    let last = and_parts (overrides_rightly types callable r f.operations.initialize && overrides_rightly types callable r f.operations.adjust)
    (overrides_rightly types callable r f.operations.finalize) h in
    let two = and_parts (overrides_rightly types callable r f.operations.initialize) (overrides_rightly types callable r f.operations.adjust) last.0 in
    elim one [
      | inl is ↦ sym (ap (overrides_rightly types callable r) is) ∙ two.0
      | inr (inl is) ↦ sym (ap (overrides_rightly types callable r) is) ∙ two.1
      | inr (inr is) ↦ sym (ap (overrides_rightly types callable r) is) ∙ last.1
    ]

first_record : (p : ProgramForm) → IsWellFormed p → (r : ℕ) (f : Finalization) (q : ProcedureNo) (b : BodyForm) → finalization_of p.types r ≡ Some f →
    IsAmong f.operations q → slice_get p.bodies q.0 ≡ Some b → (object : TypeNo) × (variable_kind b.variables 0 ≡ Some (variable.Record object))
first_record p w r f q b is one at = go (slice_get p.types r) refl
  where
    go : (o : Option TypeForm) → slice_get p.types r ≡ o → (object : TypeNo) × (variable_kind b.variables 0 ≡ Some (variable.Record object))
    go None away = absurd (cc (sym (ap finalization_in away) ∙ is))
    go (Some d) there =
        let has = have_at p.types (callable_in p) 0 r r p.types d (omega arith) there w.operations_fit in
        let its = ap (has_operations p.types (callable_in p) r) (sym (sym (ap finalization_in there) ∙ is)) ∙ has in
        let profile : slice_get (callable_in p) q.0 ≡ Some (profile_of b) = slice_get-map profile_of p.bodies q.0 ∙ ap (option_map profile_of) at in
        let operates = sym (ap (is_operation p.types r) profile) ∙ rightly p.types (callable_in p) r f q one its in
        let (object, kinds) = one_record p.types r (profile_of b).kinds (profile_of b).modes operates in
        (object, first_kind b.variables (length b.formals) (variable.Record object) kinds)

-- Quiet operations do nothing that is not allowed.

nothing_done : (p : ProgramForm) (q : ProcedureNo) (b : BodyForm) → slice_get p.bodies q.0 ≡ Some b → NothingFollowed p.types b.variables → is_quiet_body p.types b ≡ true →
    (d : Deed) → ¬ (Does p d (callee.Procedure q))
nothing_done p q b at followed quiet d (does of known each h) =
    does_nothing p.types b followed quiet known d (sym (ap (called_does p.types known d) at) ∙ h)

breaks_nothing : (p : ProgramForm) (q : ProcedureNo) (operation : Operation) (r : ℕ) → ((d : Deed) → ¬ (Does p d (callee.Procedure q))) → (rule : OperationRule) →
    ¬ (BreaksIn p q operation r rule)
breaks_nothing p q operation r none FinalizeOrder (u, inl frees, late) = none (deed.Frees (record { 0 = u })) frees
breaks_nothing p q operation r none FinalizeOrder (u, inr follows, late) = none (deed.Follows (record { 0 = u })) follows
breaks_nothing p q operation r none MayPropagate (e, raises) = none (deed.Raises e) raises
breaks_nothing p q operation r none FinalizeAllocates (is, allocates) = none deed.Allocates allocates

pub quiet_obey : (p : ProgramForm) → IsWellFormed p → operations_are_quiet p ≡ true → IsFirstFault p None
quiet_obey p w all f (q, b, at, begins, breaks) =
    let (r, lt, which) = fault_from p q f.1 breaks in
    elim which [
      | inl h ↦ go r Adjust h.0 h.1
      | inr h ↦ go r Finalize h.0 h.1
    ]
  where
    go : (r : ℕ) (operation : Operation) → overriding_in operation (finalization_of p.types r) ≡ Some q → BreaksIn p q operation r f.1 → ⊥
    go r operation is h =
        let (g, has, one) = own (finalization_of p.types r) operation q is in
        let (object, kind) = first_record p w r g q b has one at in
        breaks_nothing p q operation r (nothing_done p q b at (near p.types b.variables object kind) (quiet_among p all r g q b has one at)) f.1 h

-- What is called implicitly.

-- The procedures that override operations do not do a deed, by themselves or by what they call; nor do the operations of any parts.
pub record IsBlank (p : ProgramForm) (known : Callee → Bool) : Type 0 where
  pub procedures : (r : ℕ) (operation : Operation) (q : ProcedureNo) → overriding_in operation (finalization_of p.types r) ≡ Some q → known (callee.Procedure q) ≡ false
  pub parts : (operation : Operation) (t : TypeNo) → known (callee.Parts operation t) ≡ false

-- What does not hold is false.
never : (a : Bool) → ¬ (a ≡ true) → a ≡ false
never true h = absurd (h refl)
never false h = refl

-- The body of what overrides an operation does nothing, whatever is known of what it would call.
overriding_still : (p : ProgramForm) → IsWellFormed p → operations_are_quiet p ≡ true → (known : Callee → Bool) (d : Deed) (r : ℕ) (operation : Operation) (q : ProcedureNo) →
    overriding_in operation (finalization_of p.types r) ≡ Some q → callee_does p known d (callee.Procedure q) ≡ false
overriding_still p w all known d r operation q is = go (slice_get p.bodies q.0) refl
  where
    go : (o : Option BodyForm) → slice_get p.bodies q.0 ≡ o → callee_does p known d (callee.Procedure q) ≡ false
    go None away = ap (called_does p.types known d) away
    go (Some b) at =
        let (f, has, one) = own (finalization_of p.types r) operation q is in
        let (object, kind) = first_record p w r f q b has one at in
        ap (called_does p.types known d) at
        ∙ never (body_does p.types known d b) (does_nothing p.types b (near p.types b.variables object kind) (quiet_among p all r f q b has one at) known d)

own_still : (p : ProgramForm) (known : Callee → Bool) → IsBlank p known → (operation : Operation) (r : ℕ) (o : Option Finalization) → finalization_of p.types r ≡ o →
    own_does known operation o ≡ false
own_still p known blank operation r None is = refl
own_still p known blank operation r (Some f) is = go (overriding operation f.operations) refl
  where
    go : (o : Option ProcedureNo) → overriding operation f.operations ≡ o → overriding_does known o ≡ false
    go None at = refl
    go (Some q) at = blank.procedures r operation q (ap (overriding_in operation) is ∙ at)

components_still : (p : ProgramForm) (known : Callee → Bool) → IsBlank p known → (operation : Operation) (parts : List PartForm) → components_do known operation parts ≡ false
components_still p known blank operation [] = refl
components_still p known blank operation (c ∷ cs) = neither (part_does known operation c.kind) (components_do known operation cs) (go c.kind) (components_still p known blank operation cs)
  where
    go : (kind : PartKind) → part_does known operation kind ≡ false
    go (part.Elementary kind) = refl
    go (part.Record t) = blank.parts operation t
    go part.Parent = refl

-- So it is with the operations of the parts of an object.
parts_still : (p : ProgramForm) (known : Callee → Bool) → IsBlank p known → (d : Deed) (operation : Operation) (t : TypeNo) →
    callee_does p known d (callee.Parts operation t) ≡ false
parts_still p known blank d operation t = go (slice_get p.types t.0) refl
  where
    go : (o : Option TypeForm) → slice_get p.types t.0 ≡ o → operations_do known operation (slice_get p.types t.0) ≡ false
    go None is = ap (operations_do known operation) is
    go (Some (record_of name parts components finalization)) is =
        ap (operations_do known operation) is
        ∙ neither (own_does known operation finalization) (components_do known operation parts)
        (own_still p known blank operation t.0 finalization (ap finalization_in is)) (components_still p known blank operation parts)
    go (Some (access_to name designated pool)) is = ap (operations_do known operation) is
    go (Some (object_of record_type)) is = ap (operations_do known operation) is

-- Within any number of calls of calls.
within_blank : (p : ProgramForm) → IsWellFormed p → operations_are_quiet p ≡ true → (d : Deed) (n : ℕ) → IsBlank p (does_within p d n)
within_blank p w all d zero = record { procedures = λ r operation q is. refl; parts = λ operation t. refl }
within_blank p w all d (suc n) = record {
  procedures = overriding_still p w all (does_within p d n) d;
  parts = parts_still p (does_within p d n) (within_blank p w all d n) d;
}

module _ (p : ProgramForm) (w : IsWellFormed p) (all : operations_are_quiet p ≡ true) where
  -- No operation of the parts of an object does a deed.
  none_do : (d : Deed) (operation : Operation) (o : Option ℕ) → parts_do (does_by p d) operation o ≡ false
  none_do d operation None = refl
  none_do d operation (Some t) =
      ap (λ (b : Bool). is_deed_of p d && b) ((within_blank p w all d (callee_count p)).parts operation (record { 0 = t })) ∙ and-false (is_deed_of p d)

  none_create : (d : Deed) (o : Option ℕ) → creation_does (does_by p d) o ≡ false
  none_create d o = neither (parts_do (does_by p d) Initialize o) (parts_do (does_by p d) Finalize o) (none_do d Initialize o) (none_do d Finalize o)

-- Of some things none passes.
none_pass : {X : Type 0} (test : X → Bool) → ((x : X) → test x ≡ false) → (xs : List X) → filter test xs ≡ []
none_pass test none [] = refl
none_pass test none (x ∷ xs) = rw (none x) (none_pass test none xs)

-- What is known of implicit calls, by what it tells.
abbrev telling : (ℕ → List Exception) → (start adjust end reach : ℕ → ℕ → Bool) → Implicit
telling raises start adjust end reach = record {
  start_raises = raises;
  start_frees = start;
  adjust_frees = adjust;
  end_frees = end;
  end_reaches = reach;
}

-- It is known by what it tells of each type.
same_implicit : (a b : Implicit) → ((u : ℕ) → a.start_raises u ≡ b.start_raises u) → ((u t : ℕ) → a.start_frees u t ≡ b.start_frees u t) →
    ((u t : ℕ) → a.adjust_frees u t ≡ b.adjust_frees u t) → ((u t : ℕ) → a.end_frees u t ≡ b.end_frees u t) →
    ((u t : ℕ) → a.end_reaches u t ≡ b.end_reaches u t) → a ≡ b
same_implicit a b raises start adjust end reach =
    ap (λ (f : ℕ → List Exception). telling f a.start_frees a.adjust_frees a.end_frees a.end_reaches) (fun_ext raises)
    ∙ ap (λ (f : ℕ → ℕ → Bool). telling b.start_raises f a.adjust_frees a.end_frees a.end_reaches) (fun_ext (λ u. fun_ext (start u)))
    ∙ ap (λ (f : ℕ → ℕ → Bool). telling b.start_raises b.start_frees f a.end_frees a.end_reaches) (fun_ext (λ u. fun_ext (adjust u)))
    ∙ ap (λ (f : ℕ → ℕ → Bool). telling b.start_raises b.start_frees b.adjust_frees f a.end_reaches) (fun_ext (λ u. fun_ext (end u)))
    ∙ ap (λ (f : ℕ → ℕ → Bool). telling b.start_raises b.start_frees b.adjust_frees b.end_frees f) (fun_ext (λ u. fun_ext (reach u)))

pub nothing_called : (p : ProgramForm) → IsWellFormed p → operations_are_quiet p ≡ true → implicit_of p ≡ no_implicit
nothing_called p w all =
    same_implicit (implicit_of p) no_implicit
    (λ u. none_pass (λ e. creation_does (does_by p (deed.Raises e)) (record_at p.types u)) (λ e. none_create p w all (deed.Raises e) (record_at p.types u)) (exceptions_of p))
    (λ u t. none_create p w all (deed.Frees (record { 0 = t })) (record_at p.types u))
    (λ u t. none_do p w all (deed.Frees (record { 0 = t })) Adjust (record_at p.types u))
    (λ u t. none_do p w all (deed.Frees (record { 0 = t })) Finalize (record_at p.types u))
    (λ u t. neither (parts_do (does_by p (deed.Frees (record { 0 = t }))) Finalize (record_at p.types u))
    (parts_do (does_by p (deed.Follows (record { 0 = t }))) Finalize (record_at p.types u))
    (none_do p w all (deed.Frees (record { 0 = t })) Finalize (record_at p.types u))
    (none_do p w all (deed.Follows (record { 0 = t })) Finalize (record_at p.types u)))

-- Two first faults are one.

level : (l m : ℕ) (x y : Bool) → (nat_lt l m || ((l == m) && x)) ≡ false → (nat_lt m l || ((m == l) && y)) ≡ false → (l ≡ m) × (x ≡ false) × (y ≡ false)
level l m x y h g = (grind (arith, h, g), grind (arith, h, g), grind (arith, h, g))

numbers_apart : (l m c d r s : ℕ) → (nat_lt l m || ((l == m) && (nat_lt c d || ((c == d) && nat_lt r s)))) ≡ false →
    (nat_lt m l || ((m == l) && (nat_lt d c || ((d == c) && nat_lt s r)))) ≡ false → (l ≡ m) × (c ≡ d) × (r ≡ s)
numbers_apart l m c d r s h g =
    let (lines, x, y) = level l m (nat_lt c d || ((c == d) && nat_lt r s)) (nat_lt d c || ((d == c) && nat_lt s r)) h g in
    let (columns, u, v) = level c d (nat_lt r s) (nat_lt s r) x y in
    (lines, columns, grind (arith, u, v))

same_rule : (a b : OperationRule) → rule_number a ≡ rule_number b → a ≡ b
same_rule FinalizeOrder FinalizeOrder h = refl
same_rule FinalizeOrder MayPropagate h = absurd (omega (arith, h))
same_rule FinalizeOrder FinalizeAllocates h = absurd (omega (arith, h))
same_rule MayPropagate FinalizeOrder h = absurd (omega (arith, h))
same_rule MayPropagate MayPropagate h = refl
same_rule MayPropagate FinalizeAllocates h = absurd (omega (arith, h))
same_rule FinalizeAllocates FinalizeOrder h = absurd (omega (arith, h))
same_rule FinalizeAllocates MayPropagate h = absurd (omega (arith, h))
same_rule FinalizeAllocates FinalizeAllocates h = refl

same_fault : (f g : Spot × OperationRule) → is_before f g ≡ false → is_before g f ≡ false → f ≡ g
same_fault f g h k =
    let (line, column, number) = numbers_apart f.0.line g.0.line f.0.column g.0.column (rule_number f.1) (rule_number g.1) h k in
    let rule = same_rule f.1 g.1 number in
    ap (λ (l : ℕ). (record { line = l; column = f.0.column }, f.1)) line ∙ ap (λ (c : ℕ). (record { line = g.0.line; column = c }, f.1)) column
    ∙ ap (λ (r : OperationRule). (g.0, r)) rule

pub one_first : (p : ProgramForm) (a b : Option (Spot × OperationRule)) → IsFirstFault p a → IsFirstFault p b → a ≡ b
one_first p None None h k = refl
one_first p None (Some g) h k = absurd (h g k.0)
one_first p (Some f) None h k = absurd (k f h.0)
one_first p (Some f) (Some g) h k = ap (λ (x : Spot × OperationRule). Some x) (same_fault f g (k.1 f h.0) (h.1 g k.0))
