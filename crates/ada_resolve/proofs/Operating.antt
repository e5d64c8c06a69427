-- Operations of controlled types: what overrides them as more is declared, and where they are specified.

use Rattle.std.proofs.Common.{◌≡◌, ◌∙◌, zero, suc, ℕ, Bool, true, false, cond, ◌&&◌, List, [], ◌∷◌, ◌++◌, length, length-append, ◌+◌, ◌≤◌, ◌||◌, refl, sym, ap, subst, arith, eqb, eqb-true, eq-eqb}
use Rattle.std.proofs.lemmas.Bool.{leb-true, ne_eqb}
use Rattle.std.proofs.lemmas.List.Folds.{list_any-append}
use Rattle.std.specs.Prelude.{Option, Some, None, bytes_eq, codes, nat_eq, nat_le}
use Rattle.ada_text.specs.declared.spot.Spot.{Spot}
use Rattle.ada_tree.specs.Declarations.{FormalTree, HeadTree}
use Rattle.std.specs.List.{list_all, slice_get, slice_set}
use Rattle.ada_program.specs.Controlled.{no_operations, operations_in}
use Rattle.ada_program.specs.ProgramForm.{PartForm, TypeForm, record_of, access_to, object_of}
use Rattle.ada_program.specs.WellFormed as fits
use Rattle.ada_program.specs.WellFormed.{finalization_in}
use Rattle.ada_program.specs.declared.program.ComponentKind.{ComponentKind}
use Rattle.ada_program.specs.declared.program.Finalization.{Finalization as Finalized}
use Rattle.ada_program.specs.declared.program.FormalMode.{FormalMode}
use Rattle.ada_program.specs.declared.program.FormalMode.TheVariants.{In, InOut}
use Rattle.ada_program.specs.declared.program.Operations.{Operations}
use Rattle.ada_program.specs.declared.program.PartKind.{PartKind}
use Rattle.ada_program.specs.declared.program.PartKind.TheVariants as part
use Rattle.ada_program.specs.declared.program.ProcedureNo.{ProcedureNo}
use Rattle.ada_program.specs.declared.program.TypeNo.{TypeNo}
use Rattle.ada_resolve.specs.declared.primitives.Operation.{Operation}
use Rattle.ada_resolve.specs.declared.primitives.Operation.TheVariants.{Initialize, Adjust, Finalize}
use Rattle.ada_resolve.specs.declared.scope.Entity.{Entity}
use Rattle.ada_resolve.specs.declared.scope.Entity.TheVariants as entity
use Rattle.ada_resolve.specs.Clauses.{placed, placed_by}
use Rattle.ada_resolve.specs.Instances.{is_among, with_number}
use Rattle.ada_resolve.specs.Known.{Known, Specified, Specifications, visible}
use Rattle.ada_resolve.specs.Primitives.{begins_with_parent, chosen, exists_for, finalized_by, formal_specified, has_operation, is_controlled_type, is_parent_part, operand, operand_if, operation_named, overridden, overridden_by, overrider, sole_operand, specified_for, specified_more, specified_with, with_chosen}
use Rattle.ada_resolve.specs.Procedures.{Formals, formal_mode, formal_types, head_operand, no_formals, with_formal, with_formals}
use Rattle.ada_resolve.specs.Types.{defined}
use Rattle.ada_resolve.specs.Reading.{is_named_alike, is_this_operation, operation_name}
use Rattle.ada_resolve.proofs.WellFormed.Tables.{all_get, first_part, get_other, get_set, second_part}
use Rattle.ada_resolve.proofs.WellFormed.Names.{text_same}

-- operations of one name
pub alike_same : (a b : Operation) → is_named_alike a b ≡ true → a ≡ b
alike_same Initialize Initialize e = refl
alike_same Adjust Adjust e = refl
alike_same Finalize Finalize e = refl
alike_same Initialize Adjust e = absurd (cc e)
alike_same Initialize Finalize e = absurd (cc e)
alike_same Adjust Initialize e = absurd (cc e)
alike_same Adjust Finalize e = absurd (cc e)
alike_same Finalize Initialize e = absurd (cc e)
alike_same Finalize Adjust e = absurd (cc e)

-- what overrides an operation of a type
abbrev pub overrider_in : Operation → Option TypeForm → Option ProcedureNo
overrider_in o found = chosen o (operations_in (finalization_in found))

pub none_chosen : (o : Operation) → chosen o no_operations ≡ None
none_chosen Initialize = refl
none_chosen Adjust = refl
none_chosen Finalize = refl

-- a type that overrides nothing
abbrev pub Inherits : TypeForm → Type 0
Inherits form = operations_in (finalization_in (Some form)) ≡ no_operations

pub inherits_none : (form : TypeForm) → Inherits form → (o : Operation) → overrider_in o (Some form) ≡ None
inherits_none form h o = ap (λ (os : Operations). chosen o os) h ∙ none_chosen o

-- no type overrides anything
pub no_overrider : (o : Operation) (t : ℕ) → overrider o [] t ≡ None
unfolding overrider
no_overrider o t = none_chosen o

-- one more type
pub overrider_more : (types : List TypeForm) (form : TypeForm) → Inherits form → (o : Operation) (t : ℕ) → overrider o (types ++ form ∷ []) t ≡ overrider o types t
unfolding overrider
overrider_more types form h o t = more types t
  where
    more : (ts : List TypeForm) (t : ℕ) → overrider_in o (slice_get (ts ++ form ∷ []) t) ≡ overrider_in o (slice_get ts t)
    more [] zero = inherits_none form h o ∙ sym (none_chosen o)
    more [] (suc t) = refl
    more (x ∷ ts) zero = refl
    more (x ∷ ts) (suc t) = more ts t

-- a type becomes another
pub overrider_set : (types : List TypeForm) (u : ℕ) (x y : TypeForm) → slice_get types u ≡ Some x → (o : Operation) → overrider_in o (Some y) ≡ overrider_in o (Some x) → (t : ℕ) → overrider o (slice_set types u y) t ≡ overrider o types t
unfolding overrider
overrider_set types u x y is o same t = by_number (eqb u t) refl
  where
    by_number : (b : Bool) → eqb u t ≡ b → overrider_in o (slice_get (slice_set types u y) t) ≡ overrider_in o (slice_get types t)
    by_number true on =
        let at : u ≡ t = eqb-true u t on in
        let there : slice_get types t ≡ Some x = subst (λ (v : ℕ). slice_get types v ≡ Some x) at is in
        let now : slice_get (slice_set types u y) t ≡ Some y = subst (λ (v : ℕ). slice_get (slice_set types u y) v ≡ Some y) at (get_set types u x y is) in
        ap (λ (f : Option TypeForm). overrider_in o f) now ∙ (same ∙ ap (λ (f : Option TypeForm). overrider_in o f) (sym there))
    by_number false off = ap (λ (f : Option TypeForm). overrider_in o f) (get_other types u t y (λ at. apart (eq-eqb u t at)))
      where
        apart : eqb u t ≡ true → ⊥
        apart on = cc (on, off)

-- a clause names the pool of a type
pub overrider_placed : (pool : ℕ) (types : List TypeForm) (access : ℕ) (o : Operation) (t : ℕ) → overrider o (placed pool types access) t ≡ overrider o types t
unfolding placed
overrider_placed pool types access o t = by_form (slice_get types access) refl
  where
    by_form : (f : Option TypeForm) → slice_get types access ≡ f → overrider o (placed_by f pool types access) t ≡ overrider o types t
    by_form None is = refl
    by_form (Some (record_of name ps cs final)) is = refl
    by_form (Some (access_to name d before)) is = overrider_set types access (access_to name d before) (access_to name d (Some pool)) is o refl t
    by_form (Some (object_of r)) is = refl

-- a declaration defines its type
pub overrider_defined : (types : List TypeForm) (c : Option TypeNo) (form : TypeForm) → ((u : TypeNo) → c ≡ Some u → (x : TypeForm) × (slice_get types u.0 ≡ Some x) × Inherits x) → Inherits form → (o : Operation) (t : ℕ) → overrider o (defined c form types) t ≡ overrider o types t
overrider_defined types None form had own o t = overrider_more types form own o t
overrider_defined types (Some u) form had own o t =
    let was = had u refl in
    overrider_set types u.0 was.0 form was.1 o (inherits_none form own o ∙ sym (inherits_none was.0 was.2 o)) t

-- a procedure overrides an operation
chosen_now : (a o : Operation) (p : ProcedureNo) (os : Operations) → chosen a (with_chosen o p os) ≡ cond (is_named_alike a o && true) (Some p) (chosen a os)
chosen_now Initialize Initialize p os = refl
chosen_now Initialize Adjust p os = refl
chosen_now Initialize Finalize p os = refl
chosen_now Adjust Initialize p os = refl
chosen_now Adjust Adjust p os = refl
chosen_now Adjust Finalize p os = refl
chosen_now Finalize Initialize p os = refl
chosen_now Finalize Adjust p os = refl
chosen_now Finalize Finalize p os = refl

off_and : {X : Type 0} (b : Bool) (x y : X) → cond (b && false) x y ≡ y
off_and true x y = refl
off_and false x y = refl

pub overrider_now : (o : Operation) (p : ProcedureNo) (types : List TypeForm) (t : ℕ) (name : List ℕ) (ps : List PartForm) (cs : List ComponentKind) (f : Finalized) → slice_get types t ≡ Some (record_of name ps cs (Some f)) → (a : Operation) (u : ℕ) → overrider a (overridden o p types t) u ≡ cond (is_this_operation a o u t) (Some p) (overrider a types u)
unfolding overrider overridden
overrider_now o p types t name ps cs f is a u =
    ap (λ (found : Option TypeForm). overrider_in a (slice_get (overridden_by found o p types t) u)) is ∙ by_number (eqb u t) refl
  where
    x : TypeForm
    x = record_of name ps cs (Some f)

    y : TypeForm
    y = record_of name ps cs (finalized_by o p (Some f))

    by_number : (b : Bool) → eqb u t ≡ b → overrider_in a (slice_get (slice_set types t y) u) ≡ cond (is_named_alike a o && b) (Some p) (overrider_in a (slice_get types u))
    by_number true on =
        let at : t ≡ u = sym (eqb-true u t on) in
        let there : slice_get types u ≡ Some x = subst (λ (v : ℕ). slice_get types v ≡ Some x) at is in
        let now : slice_get (slice_set types t y) u ≡ Some y = subst (λ (v : ℕ). slice_get (slice_set types t y) v ≡ Some y) at (get_set types t x y is) in
        ap (λ (g : Option TypeForm). overrider_in a g) now ∙
        (chosen_now a o p f.operations ∙ ap (λ (g : Option TypeForm). cond (is_named_alike a o && true) (Some p) (overrider_in a g)) (sym there))
    by_number false off =
        ap (λ (g : Option TypeForm). overrider_in a g) (get_other types t u y (λ at. apart (eq-eqb u t (sym at)))) ∙ sym (off_and (is_named_alike a o) (Some p) (overrider_in a (slice_get types u)))
      where
        apart : eqb u t ≡ true → ⊥
        apart on = cc (on, off)

-- an operation of a type is specified
twice : {X : Type 0} (b : Bool) (x y z : X) → cond b x z ≡ cond b x (cond b y z)
twice true x y z = refl
twice false x y z = refl

formal_now : (t u : ℕ) (formal : List ℕ) (ss : List Specified) → formal_specified u (specified_with t formal ss) ≡ cond (eqb u t) (Some formal) (formal_specified u ss)
formal_now t u formal [] = refl
formal_now t u formal (s ∷ ss) = by_number (eqb t s.record_type) refl (formal_now t u formal ss)
  where
    rest : Option (List ℕ)
    rest = formal_specified u ss

    turn : (a b : Bool) → eqb u t ≡ a → eqb u s.record_type ≡ b → eqb t s.record_type ≡ false → cond b (Some s.formal) (cond a (Some formal) rest) ≡ cond a (Some formal) (cond b (Some s.formal) rest)
    turn true true on also_on off =
        let same : t ≡ s.record_type = sym (eqb-true u t on) ∙ eqb-true u s.record_type also_on in
        absurd (apart same)
      where
        apart : t ≡ s.record_type → ⊥
        apart same = let on = eq-eqb t s.record_type same in cc (on, off)
    turn true false on also_on off = refl
    turn false b on also_on off = refl

    by_number : (b : Bool) → eqb t s.record_type ≡ b → formal_specified u (specified_with t formal ss) ≡ cond (eqb u t) (Some formal) rest → formal_specified u (cond b (record { record_type = s.record_type; formal = formal } ∷ ss) (s ∷ specified_with t formal ss)) ≡ cond (eqb u t) (Some formal) (cond (eqb u s.record_type) (Some s.formal) rest)
    by_number true on further =
        let same : s.record_type ≡ t = sym (eqb-true t s.record_type on) in
        ap (λ (n : ℕ). cond (eqb u n) (Some formal) rest) same ∙
        (twice (eqb u t) (Some formal) (Some s.formal) rest ∙ ap (λ (n : ℕ). cond (eqb u t) (Some formal) (cond (eqb u n) (Some s.formal) rest)) (sym same))
    by_number false off further =
        ap (λ (o : Option (List ℕ)). cond (eqb u s.record_type) (Some s.formal) o) further ∙
        turn (eqb u t) (eqb u s.record_type) refl refl off

pub specified_now : (o : Operation) (t : ℕ) (formal : List ℕ) (specified : Specifications) (a : Operation) (u : ℕ) → formal_specified u (specified_for a (specified_more o t formal specified)) ≡ cond (is_this_operation a o u t) (Some formal) (formal_specified u (specified_for a specified))
specified_now Initialize t formal specified Initialize u = formal_now t u formal specified.initializes
specified_now Adjust t formal specified Adjust u = formal_now t u formal specified.adjusts
specified_now Finalize t formal specified Finalize u = formal_now t u formal specified.finalizes
specified_now Initialize t formal specified Adjust u = refl
specified_now Initialize t formal specified Finalize u = refl
specified_now Adjust t formal specified Initialize u = refl
specified_now Adjust t formal specified Finalize u = refl
specified_now Finalize t formal specified Initialize u = refl
specified_now Finalize t formal specified Adjust u = refl

-- one more type is derived from Limited_Controlled
either_way : (a b : ℕ) → eqb a b ≡ eqb b a
either_way a b = by_number (eqb a b) refl
  where
    by_number : (c : Bool) → eqb a b ≡ c → c ≡ eqb b a
    by_number true on = sym (eq-eqb b a (sym (eqb-true a b on)))
    by_number false off = sym (ne_eqb b a (λ same. apart (eq-eqb a b (sym same))))
      where
        apart : eqb a b ≡ true → ⊥
        apart on = cc (on, off)

or_same : (a b : Bool) → (a ≡ true → b ≡ true) → b ≡ (a || b)
or_same true b h = h refl
or_same false b h = refl

or_turn : (a b : Bool) → (b || (a || false)) ≡ (a || b)
or_turn true true = refl
or_turn true false = refl
or_turn false true = refl
or_turn false false = refl

pub limited_now : (ts : List ℕ) (t u : ℕ) → is_among u (with_number ts t) ≡ (eqb t u || is_among u ts)
limited_now ts t u = by_there (is_among t ts) refl
  where
    by_there : (b : Bool) → is_among t ts ≡ b → is_among u (cond b ts (ts ++ t ∷ [])) ≡ (eqb t u || is_among u ts)
    by_there true on = or_same (eqb t u) (is_among u ts) (λ same. subst (λ (n : ℕ). is_among n ts ≡ true) (eqb-true t u same) on)
    by_there false off =
        list_any-append (nat_eq u) ts (t ∷ []) ∙
        (ap (λ (b : Bool). is_among u ts || (b || false)) (either_way u t) ∙ or_turn (eqb t u) (is_among u ts))

-- the name of an operation
pub named_so : (text : List ℕ) (o : Operation) → operation_named text ≡ Some o → text ≡ operation_name o
unfolding operation_named
named_so text o e =
    by_text (bytes_eq text (codes "INITIALIZE")) (bytes_eq text (codes "ADJUST")) (bytes_eq text (codes "FINALIZE"))
    (text_same text (codes "INITIALIZE")) (text_same text (codes "ADJUST")) (text_same text (codes "FINALIZE")) e
  where
    by_text : (a b c : Bool) → (a ≡ true → text ≡ codes "INITIALIZE") → (b ≡ true → text ≡ codes "ADJUST") → (c ≡ true → text ≡ codes "FINALIZE") → cond a (Some Initialize) (cond b (Some Adjust) (cond c (Some Finalize) None)) ≡ Some o → text ≡ operation_name o
    by_text true b c f g h e = let is : Initialize ≡ o = cc e in subst (λ (x : Operation). text ≡ operation_name x) is (f refl)
    by_text false true c f g h e = let is : Adjust ≡ o = cc e in subst (λ (x : Operation). text ≡ operation_name x) is (g refl)
    by_text false false true f g h e = let is : Finalize ≡ o = cc e in subst (λ (x : Operation). text ≡ operation_name x) is (h refl)
    by_text false false false f g h e = absurd (cc e)

its_name : (o : Operation) → operation_named (operation_name o) ≡ Some o
unfolding operation_named
its_name Initialize = refl
its_name Adjust = refl
its_name Finalize = refl

pub not_named : (text : List ℕ) → operation_named text ≡ None → (o : Operation) → text ≡ operation_name o → ⊥
not_named text none o is = let some : operation_named text ≡ Some o = ap (λ (t : List ℕ). operation_named t) is ∙ its_name o in absurd (cc (none, some))

-- what a procedure is the operation of
pub record Operand (k : Known) (o : Operation) (head : HeadTree) (t : ℕ) : Type 0 where
  pub f : FormalTree
  pub alone : head.formals ≡ f ∷ []
  pub size : ℕ
  pub number : TypeNo
  pub is_t : number.0 ≡ t
  pub found : visible k f.type_name.text ≡ Some (entity.Record number size)
  pub input : Spot
  pub output : Spot
  pub has_input : f.input ≡ Some input
  pub has_output : f.output ≡ Some output
  pub own : k.here.first_type ≤ t
  pub controlled : is_controlled_type (slice_get k.types t) ≡ true
  pub exists : exists_for o (is_among t k.limited) ≡ true

sole_is : (modes : List FormalMode) (types : List TypeForm) (t : ℕ) → sole_operand modes types ≡ Some t → (modes ≡ InOut ∷ []) × (types ≡ object_of t ∷ [])
sole_is (InOut ∷ []) (object_of u ∷ []) t e = let same : u ≡ t = cc e in (refl, ap (λ (n : ℕ). object_of n ∷ []) same)
sole_is (InOut ∷ []) [] t e = absurd (cc e)
sole_is (InOut ∷ []) (record_of name ps cs final ∷ types) t e = absurd (cc e)
sole_is (InOut ∷ []) (access_to name d pool ∷ types) t e = absurd (cc e)
sole_is (InOut ∷ []) (object_of u ∷ (form ∷ types)) t e = absurd (cc e)
sole_is [] types t e = absurd (cc e)
sole_is (In ∷ modes) types t e = absurd (cc e)
sole_is (InOut ∷ (mode ∷ modes)) types t e = absurd (cc e)

operand_has : (k : Known) (o : Operation) (found : Option ℕ) (t : ℕ) → operand_if k o found ≡ Some t → (found ≡ Some t) × (has_operation k o t ≡ true)
operand_has k o None t e = absurd (cc e)
operand_has k o (Some u) t e = by_test (has_operation k o u) refl e
  where
    by_test : (b : Bool) → has_operation k o u ≡ b → cond b (Some u) None ≡ Some t → (Some u ≡ Some t) × (has_operation k o t ≡ true)
    by_test true on e = let same : u ≡ t = cc e in (ap (λ (n : ℕ). Some n) same, subst (λ (n : ℕ). has_operation k o n ≡ true) same on)
    by_test false off e = absurd (cc e)

both_written : (input output : Option Spot) → formal_mode input output ≡ InOut → (a b : Spot) × (input ≡ Some a) × (output ≡ Some b)
both_written (Some a) (Some b) e = (a, b, refl, refl)
both_written None (Some b) e = absurd (cc e)
both_written input None e = absurd (cc e)

record_found : (o : Option Entity) (t : ℕ) → formal_types o ≡ object_of t ∷ [] → (n : TypeNo) × (size : ℕ) × (n.0 ≡ t) × (o ≡ Some (entity.Record n size))
record_found (Some (entity.Record n size)) t e = let same : n.0 ≡ t = cc e in (n, size, same, refl)
record_found (Some e) t is = absurd (cc is)
record_found None t is = absurd (cc is)

one_more : (k : Known) (f : FormalTree) (before : Formals) → length (with_formal k f before).modes ≡ length before.modes + 1
unfolding with_formal
one_more k f before = length-append before.modes (formal_mode f.input f.output ∷ [])

as_many : (k : Known) (fs : List FormalTree) (before : Formals) → length (with_formals k fs before).modes ≡ length before.modes + length fs
as_many k [] before = omega arith
as_many k (f ∷ fs) before = let rest = as_many k fs (with_formal k f before) in let one = one_more k f before in omega (arith, rest, one)

first_modes : (k : Known) (f : FormalTree) → (with_formal k f no_formals).modes ≡ formal_mode f.input f.output ∷ []
unfolding with_formal
first_modes k f = refl

first_types : (k : Known) (f : FormalTree) → (with_formal k f no_formals).types ≡ formal_types (visible k f.type_name.text)
unfolding with_formal
first_types k f = refl

same_head : {X : Type 0} (x y : X) → x ∷ [] ≡ y ∷ [] → x ≡ y
same_head x y e = cc e

alone_of : (k : Known) (fs : List FormalTree) → (with_formals k fs no_formals).modes ≡ InOut ∷ [] → (f : FormalTree) × (fs ≡ f ∷ [])
alone_of k [] e = absurd (cc e)
alone_of k (f ∷ []) e = (f, refl)
alone_of k (f ∷ (g ∷ fs)) e =
    let many = as_many k (f ∷ (g ∷ fs)) no_formals in
    let one : length (with_formals k (f ∷ (g ∷ fs)) no_formals).modes ≡ 1 = ap (λ (ms : List FormalMode). length ms) e in
    let no : ⊥ = omega (arith, many, one) in absurd no

pub head_modes : (k : Known) (o : Operation) (head : HeadTree) (t : ℕ) → head_operand (Some o) k head ≡ Some t → ((with_formals k head.formals no_formals).modes ≡ InOut ∷ []) × ((with_formals k head.formals no_formals).types ≡ object_of t ∷ [])
unfolding operand
head_modes k o head t e =
    let f = with_formals k head.formals no_formals in
    sole_is f.modes f.types t (operand_has k o (sole_operand f.modes f.types) t e).0

pub operand_is : (k : Known) (o : Operation) (head : HeadTree) (t : ℕ) → head_operand (Some o) k head ≡ Some t → Operand k o head t
unfolding operand has_operation
operand_is k o head t e =
    let all = with_formals k head.formals no_formals in
    let has = operand_has k o (sole_operand all.modes all.types) t e in
    let sole = sole_is all.modes all.types t has.0 in
    let one = alone_of k head.formals sole.0 in
    let f = one.0 in
    let modes : formal_mode f.input f.output ∷ [] ≡ InOut ∷ [] = sym (first_modes k f) ∙ (ap (λ (fs : List FormalTree). (with_formals k fs no_formals).modes) (sym one.1) ∙ sole.0) in
    let types : formal_types (visible k f.type_name.text) ≡ object_of t ∷ [] = sym (first_types k f) ∙ (ap (λ (fs : List FormalTree). (with_formals k fs no_formals).types) (sym one.1) ∙ sole.1) in
    let written = both_written f.input f.output (same_head (formal_mode f.input f.output) InOut modes) in
    let found = record_found (visible k f.type_name.text) t types in
    let first = nat_le k.here.first_type t in
    let shape = is_controlled_type (slice_get k.types t) in
    let there = exists_for o (is_among t k.limited) in
    record {
      f = f;
      alone = one.1;
      size = found.1;
      number = found.0;
      is_t = found.2;
      found = found.3;
      input = written.0;
      output = written.1;
      has_input = written.2;
      has_output = written.3;
      own = leb-true k.here.first_type t (first_part first shape (first_part (first && shape) there has.1));
      controlled = second_part first shape (first_part (first && shape) there has.1);
      exists = second_part (first && shape) there has.1;
    }

-- a controlled type has a controlled part
numbered_past : (types : List TypeForm) (from : ℕ) (ps : List PartForm) → 1 ≤ from → fits.parts_in_order types 0 from ps ≡ true → ⊥
numbered_past types from [] more e = let same : from ≡ 0 = eqb-true from 0 e in omega (arith, more, same)
numbered_past types from (p ∷ ps) more e =
    numbered_past types (from + fits.parts_within types p.kind) ps (omega (arith, more))
    (second_part (eqb p.part from) (fits.parts_in_order types 0 (from + fits.parts_within types p.kind) ps) e)

parented : (types : List TypeForm) (ps : List PartForm) → begins_with_parent ps ≡ true → fits.parts_in_order types 0 0 ps ≡ true → ⊥
parented types [] e f = cc e
parented types (c ∷ ps) e f = by_kind c.kind e (second_part (eqb c.part 0) (fits.parts_in_order types 0 (0 + fits.parts_within types c.kind) ps) f)
  where
    by_kind : (kind : PartKind) → is_parent_part kind ≡ true → fits.parts_in_order types 0 (0 + fits.parts_within types kind) ps ≡ true → ⊥
    by_kind part.Parent e f = numbered_past types 1 ps (omega arith) f
    by_kind (part.Record t) e f = cc e
    by_kind (part.Elementary kind) e f = cc e

pub is_finalized : (types : List TypeForm) (t : ℕ) → list_all (fits.type_fits types) types ≡ true → is_controlled_type (slice_get types t) ≡ true → (name : List ℕ) × (ps : List PartForm) × (cs : List ComponentKind) × (f : Finalized) × (slice_get types t ≡ Some (record_of name ps cs (Some f)))
is_finalized types t all e = by_form (slice_get types t) refl e
  where
    by_form : (x : Option TypeForm) → slice_get types t ≡ x → is_controlled_type x ≡ true → (name : List ℕ) × (ps : List PartForm) × (cs : List ComponentKind) × (f : Finalized) × (x ≡ Some (record_of name ps cs (Some f)))
    by_form None is e = absurd (cc e)
    by_form (Some (access_to name d pool)) is e = absurd (cc e)
    by_form (Some (object_of r)) is e = absurd (cc e)
    by_form (Some (record_of name ps cs (Some f))) is e = (name, ps, cs, f, refl)
    by_form (Some (record_of name ps cs None)) is e =
        let fit = all_get (fits.type_fits types) types t (record_of name ps cs None) all is in
        let first = list_all (fits.kind_fits types) cs && fits.parent_first ps in
        absurd (parented types ps e (second_part first (fits.parts_in_order types 0 0 ps) (first_part (first && fits.parts_in_order types 0 0 ps) true fit)))
