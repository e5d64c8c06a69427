-- The bodies of procedures are read as they are written: their heads, and what is bound behind them.

use Rattle.std.proofs.Common.{◌≡◌, ◌∙◌, ℕ, ◌+◌, Bool, true, false, cond, List, [], ◌∷◌, ◌++◌, length, length-append, refl, sym, ap, subst}
use Rattle.std.specs.Prelude.{Option, Some, None, bytes_eq, codes, map, not, option_map, is_some}
use Rattle.std.specs.List.{slice_get}
use Rattle.std.proofs.lemmas.List.{append-nil, append_assoc}
use Rattle.ada_text.specs.declared.spot.Spot.{Spot}
use Rattle.ada_tree.specs.Declarations.{FormalTree, HeadTree}
use Rattle.ada_tree.specs.Names.{Ident}
use Rattle.ada_program.specs.declared.program.Exception.TheVariants as exception
use Rattle.ada_program.specs.declared.program.FormalMode.{FormalMode}
use Rattle.ada_program.specs.declared.program.FormalMode.TheVariants.{In, InOut}
use Rattle.ada_program.specs.declared.program.TypeNo.{TypeNo}
use Rattle.ada_program.specs.declared.program.VariableKind.{VariableKind}
use Rattle.ada_program.specs.declared.program.VariableKind.TheVariants as variable
use Rattle.ada_program.specs.declared.program.VariableNo.{VariableNo}
use Rattle.ada_program.specs.Form.{StmtsForm, HandlersForm}
use Rattle.ada_program.specs.declared.program.ComponentKind.{ComponentKind}
use Rattle.ada_program.specs.declared.program.Finalization.{Finalization as Finalized}
use Rattle.ada_program.specs.declared.program.ProcedureNo.{ProcedureNo}
use Rattle.ada_program.specs.ProgramForm.{PartForm, TypeForm, record_of, object_of, VariableForm, BodyForm}
use Rattle.ada_resolve.specs.declared.fault.NameRule.TheVariants.{DeclaredTwice}
use Rattle.ada_resolve.specs.declared.scope.Entity.{Entity}
use Rattle.ada_resolve.specs.declared.scope.Entity.TheVariants as entity
use Rattle.ada_resolve.specs.declared.primitives.Operation.{Operation}
use Rattle.ada_resolve.specs.declared.primitives.Operation.TheVariants.{Initialize, Adjust, Finalize}
use Rattle.ada_resolve.specs.Primitives.{answered, declared_unless, formal_specified, operand_kept, operand_of, operation_named, overridden, overridden_if, overrider, specified_for}
use Rattle.ada_resolve.specs.Known.{Known, Named, Specified, Specifications, declared, entered, first_named, from_within, named, named_in, next_procedure, parts, visible}
use Rattle.ada_resolve.specs.Procedures.{Formals, keeps_its_operand, no_formals, formal_type, formal_types, formal_kind, known_by, formal_mode, formal_entity, formal_type_wanted, formal_remark, formals_remark, mode_remark, with_formal, with_formals, overriding_remark, overriding_unless, body_head_remark, closed, head_name_remark, head_operand, operand_wanted, with_body, behind_head, body_of, body_ended}
use Rattle.ada_resolve.specs.Spots.{head_spot}
use Rattle.ada_resolve.specs.Naming.{Context, Place, Specification, Overriding, Binding, Meaning, a_parameter, a_variable, a_procedure, a_procedure_around, a_type, meaning_among, is_one_of, IsBound, IsAccessNamed, IsFullRecordNamed}
use Rattle.ada_resolve.specs.Reading.{read_at, with_binding, with_named_formal, with_own_type, with_new_formal, from_body, bound_outside, body_place, names_around, behind_body, in_body, in_profile, formal_among, procedure_among, is_this_operation, keeps_own, IsHeadRead, IsModeRead, IsFormalNamed, AreFormalsRead}
use Rattle.ada_resolve.specs.Clauses.{pool_of}
use Rattle.ada_resolve.proofs.WellFormed.Forms.{AreIn, forms, forms_in, forms_length, access_stays, object_stays, record_stays}
use Rattle.ada_resolve.proofs.WellFormed.Placed.{none_more}
use Rattle.ada_resolve.proofs.WellFormed.Names.{named_entered, visible_fits}
use Rattle.ada_resolve.proofs.WellFormed.Remarks.{Quiet, quiet_if}
use Rattle.ada_resolve.proofs.WellFormed.Tables.{get_more, get_last}
use Rattle.ada_resolve.proofs.Standing.{Sound, around_body, InBody, left_body, ended_is}
use Rattle.ada_resolve.proofs.Standing.Procedures.{get_front, IsFormal, FormalsSound, formal_sound, no_formal}
use Rattle.ada_resolve.proofs.Agreeing.{bound_behind, bound_to, Stands, Agrees, Ahead, EntityRead, stands_among, stands_entered, stands_more, visible_read, none_specified, not_predefined}
use Rattle.ada_resolve.proofs.Operating.{not_named, overrider_more, overrider_now}
use Rattle.ada_resolve.proofs.WellFormed.Overridden.{if_forms, if_pool}
use Rattle.ada_resolve.proofs.Operands.{RecordsStay, operation_body}
use Rattle.ada_resolve.proofs.Elaborated.{new_there}

-- what a name is bound to, seen from a body
outside_if : (b : Bool) (m : Meaning) (o : Option Meaning) → cond b (Some (from_body m)) (option_map from_body o) ≡ option_map from_body (cond b (Some m) o)
outside_if true m o = refl
outside_if false m o = refl

among_outside : (text : List ℕ) (bs : List Binding) → meaning_among text (map bound_outside bs) ≡ option_map from_body (meaning_among text bs)
among_outside text [] = refl
among_outside text (b ∷ bs) =
    ap (λ (o : Option Meaning). cond (bytes_eq text b.text) (Some (from_body b.meaning)) o) (among_outside text bs) ∙
    outside_if (bytes_eq text b.text) b.meaning (meaning_among text bs)

same_meaning : {a b : Meaning} → Some a ≡ Some b → Some (from_body a) ≡ Some (from_body b)
same_meaning e = ap (λ (o : Option Meaning). option_map from_body o) e

-- and what it stands for
within_bound : (variables : List VariableForm) (e : Entity) (meaning : Meaning) (m : Option Meaning) → bound_to e ≡ Some meaning → m ≡ Some meaning → Stands (from_within variables (Some e)) (option_map from_body m)
within_bound variables (entity.Variable x kind) meaning m own is = (from_body meaning, same_meaning own, ap (λ (o : Option Meaning). option_map from_body o) is)
within_bound variables (entity.Parameter x kind) meaning m own is = (from_body meaning, same_meaning own, ap (λ (o : Option Meaning). option_map from_body o) is)
within_bound variables (entity.Incomplete t) meaning m own is = (from_body meaning, same_meaning own, ap (λ (o : Option Meaning). option_map from_body o) is)
within_bound variables (entity.Record t size) meaning m own is = (from_body meaning, same_meaning own, ap (λ (o : Option Meaning). option_map from_body o) is)
within_bound variables (entity.Access t) meaning m own is = (from_body meaning, same_meaning own, ap (λ (o : Option Meaning). option_map from_body o) is)
within_bound variables (entity.Number n) meaning m own is = (from_body meaning, same_meaning own, ap (λ (o : Option Meaning). option_map from_body o) is)
within_bound variables (entity.Exception (exception.Declared n)) meaning m own is = (from_body meaning, same_meaning own, ap (λ (o : Option Meaning). option_map from_body o) is)
within_bound variables (entity.Pool n) meaning m own is = (from_body meaning, same_meaning own, ap (λ (o : Option Meaning). option_map from_body o) is)
within_bound variables (entity.Instance t) meaning m own is = (from_body meaning, same_meaning own, ap (λ (o : Option Meaning). option_map from_body o) is)
within_bound variables (entity.Callable n) meaning m own is = (from_body meaning, same_meaning own, ap (λ (o : Option Meaning). option_map from_body o) is)
within_bound variables entity.Procedure meaning m own is = (from_body meaning, same_meaning own, ap (λ (o : Option Meaning). option_map from_body o) is)
within_bound variables (entity.Outer kind r) meaning m own is = (from_body meaning, same_meaning own, ap (λ (o : Option Meaning). option_map from_body o) is)
within_bound variables e meaning m own is = absurd (cc own)

stands_within : (variables : List VariableForm) (o : Option Entity) (m : Option Meaning) → Stands o m → Stands (from_within variables o) (option_map from_body m)
stands_within variables None m s = ap (λ (o : Option Meaning). option_map from_body o) s
stands_within variables (Some e) m s = within_bound variables e s.0 m s.1 s.2

-- what a body overrides has its name
abbrev pub IsOf : Option Operation → Option (Operation × ℕ) → Type 0
IsOf None None = Unit {0}
IsOf (Some o) (Some which) = o ≡ which.0
IsOf None (Some which) = ⊥
IsOf (Some o) None = ⊥

-- where the name of a procedure is declared
abbrev around_place : Option (Operation × ℕ) → Ident → Place → Place
around_place None name place = with_binding name a_procedure_around place
around_place (Some which) name place = place

around_names : (overrides : Option (Operation × ℕ)) (name : Ident) (place : Place) → (around_place overrides name place).here ++ (around_place overrides name place).outer ≡ names_around overrides name place
around_names None name place = refl
around_names (Some which) name place = refl

named_agrees : (k : Known) (place : Place) (name : Ident) (e : Entity) (meaning : Meaning) → bound_to e ≡ Some meaning → Agrees k place → Agrees (declared k name.text e) (with_binding name meaning place)
named_agrees k place name e meaning own w = record {
  here = stands_entered k.here.names place.here name e meaning own w.here;
  outer = w.outer;
  first_type = w.first_type;
  types = w.types;
  pools = w.pools;
  placed = w.placed;
  bodies = w.bodies;
  variables = w.variables;
  exceptions = w.exceptions;
  texts = w.texts;
  controlled = w.controlled;
  limited = w.limited;
  specified = w.specified;
  overridden = w.overridden;
  kept = w.kept;
}

around_agrees : (k : Known) (place : Place) (name : Ident) (o : Option Operation) (overrides : Option (Operation × ℕ)) → IsOf o overrides → Agrees k place → Agrees (declared_unless o k name.text entity.Procedure) (around_place overrides name place)
around_agrees k place name None None is w = named_agrees k place name entity.Procedure a_procedure_around refl w
around_agrees k place name (Some o) (Some which) is w = w
around_agrees k place name None (Some which) is w = absurd is
around_agrees k place name (Some o) None is w = absurd is

-- where its body begins, before its formals
body_agrees : (k : Known) (place : Place) (head : HeadTree) (overrides : Option (Operation × ℕ)) (b : Bool) → IsOf (operation_named head.name.text) overrides → keeps_own overrides place.limited ≡ b → Agrees k place → Agrees (with_body b no_formals (around_body k head)) (body_place overrides head.name place)
body_agrees k place head overrides b is kept w =
    let none = ap (λ (ts : List TypeForm). length ts) (sym (append-nil k.types)) in
    let around = around_body k head in
    let all = names_around overrides head.name place in
    let before = around_agrees k place head.name (operation_named head.name.text) overrides is w in
    let seen : (text : List ℕ) → Stands (named_in text (parts around)) (meaning_among text all) = λ text.
    subst (λ (bs : List Binding). Stands (named_in text (parts around)) (meaning_among text bs)) (around_names overrides head.name place)
    (stands_among around (around_place overrides head.name place) before text) in
    record {
      here = λ text. refl;
      outer = λ text.
          subst (λ (m : Option Meaning). Stands (from_within k.variables (named_in text (parts around))) m) (sym (among_outside text all))
          (stands_within k.variables (named_in text (parts around)) (meaning_among text all) (seen text));
      first_type = w.types ∙ none;
      types = w.types ∙ none;
      pools = w.pools;
      placed = λ t. w.placed t ∙ ap (λ (ts : List TypeForm). is_some (pool_of ts t)) (sym (append-nil k.types));
      bodies = w.bodies;
      variables = refl;
      exceptions = w.exceptions;
      texts = w.texts;
      controlled = w.controlled;
      limited = w.limited;
      specified = none_specified;
      overridden = λ o t. ap (λ (ts : List TypeForm). overrider o ts t) (append-nil k.types) ∙ w.overridden o t;
      kept = kept;
    }

-- what a formal of a mode is bound to
abbrev meaning_of : FormalMode → ℕ → Meaning
meaning_of In x = a_parameter x
meaning_of InOut x = a_variable x

formal_bound : (mode : FormalMode) (x : VariableNo) (kind : VariableKind) (n : ℕ) → n ≡ x.0 → bound_to (formal_entity mode x kind) ≡ Some (meaning_of mode n)
formal_bound In x kind n same = ap (λ (i : ℕ). Some (a_parameter i)) (sym same)
formal_bound InOut x kind n same = ap (λ (i : ℕ). Some (a_variable i)) (sym same)

formal_place : (mode : FormalMode) (kind : VariableKind) (name : Ident) (place : Place) → with_new_formal mode kind name place ≡ record (with_binding name (meaning_of mode place.variables) (with_own_type kind place)) { variables = place.variables + 1 }
formal_place mode kind name place = by_kind kind
  where
    by_mode : (mode : FormalMode) (q : Place) → with_named_formal mode name q ≡ record (with_binding name (meaning_of mode q.variables) q) { variables = q.variables + 1 }
    by_mode In q = refl
    by_mode InOut q = refl

    by_kind : (kind : VariableKind) → with_named_formal mode name (with_own_type kind place) ≡ record (with_binding name (meaning_of mode place.variables) (with_own_type kind place)) { variables = place.variables + 1 }
    by_kind variable.Integer = by_mode mode place
    by_kind variable.Boolean = by_mode mode place
    by_kind (variable.Access t) = by_mode mode place
    by_kind (variable.Record object) = by_mode mode (with_own_type (variable.Record object) place)

-- how many types there are behind a formal, which begin those of its body
own_types_count : (own : TypeNo) (o : Option Entity) (types : List TypeForm) (place : Place) → place.types ≡ length types → (with_own_type (formal_kind own o) place).types ≡ length (types ++ formal_types o)
own_types_count own (Some (entity.Record t size)) types place same = ap (λ (n : ℕ). n + 1) same ∙ sym (length-append types (object_of t.0 ∷ []))
own_types_count own (Some entity.Boolean) types place same = same ∙ ap (λ (ts : List TypeForm). length ts) (sym (append-nil types))
own_types_count own (Some (entity.Access t)) types place same = same ∙ ap (λ (ts : List TypeForm). length ts) (sym (append-nil types))
own_types_count own (Some e) types place same = same ∙ ap (λ (ts : List TypeForm). length ts) (sym (append-nil types))
own_types_count own None types place same = same ∙ ap (λ (ts : List TypeForm). length ts) (sym (append-nil types))

-- none of them has a pool
own_types_pools : (o : Option Entity) (types : List TypeForm) (t : ℕ) → is_some (pool_of (types ++ formal_types o) t) ≡ is_some (pool_of types t)
own_types_pools (Some (entity.Record u size)) types t = none_more types (object_of u.0) t refl
own_types_pools (Some e) types t = ap (λ (ts : List TypeForm). is_some (pool_of ts t)) (append-nil types)
own_types_pools None types t = ap (λ (ts : List TypeForm). is_some (pool_of ts t)) (append-nil types)

-- nor overrides anything
own_types_override : (o : Option Entity) (types : List TypeForm) (a : Operation) (t : ℕ) → overrider a (types ++ formal_types o) t ≡ overrider a types t
own_types_override (Some (entity.Record u size)) types a t = overrider_more types (object_of u.0) refl a t
own_types_override (Some e) types a t = ap (λ (ts : List TypeForm). overrider a ts t) (append-nil types)
own_types_override None types a t = ap (λ (ts : List TypeForm). overrider a ts t) (append-nil types)

own_first_type : (kind : VariableKind) (place : Place) → place.first_type ≡ place.types → (with_own_type kind place).first_type ≡ (with_own_type kind place).types
own_first_type variable.Integer place same = same
own_first_type variable.Boolean place same = same
own_first_type (variable.Access t) place same = same
own_first_type (variable.Record object) place same = refl

-- all else stays
record SamePlace (p q : Place) : Type 0 where
  here : p.here ≡ q.here
  outer : p.outer ≡ q.outer
  pools : p.pools ≡ q.pools
  placed : p.placed ≡ q.placed
  bodies : p.bodies ≡ q.bodies
  exceptions : p.exceptions ≡ q.exceptions
  texts : p.texts ≡ q.texts
  controlled : p.controlled ≡ q.controlled
  limited : p.limited ≡ q.limited
  specified : p.specified ≡ q.specified
  overridden : p.overridden ≡ q.overridden
  kept : p.keeps_operand ≡ q.keeps_operand

own_same : (kind : VariableKind) (place : Place) → SamePlace (with_own_type kind place) place
own_same variable.Integer place = record { here = refl; outer = refl; pools = refl; placed = refl; bodies = refl; exceptions = refl; texts = refl; controlled = refl; limited = refl; specified = refl; overridden = refl; kept = refl }
own_same variable.Boolean place = record { here = refl; outer = refl; pools = refl; placed = refl; bodies = refl; exceptions = refl; texts = refl; controlled = refl; limited = refl; specified = refl; overridden = refl; kept = refl }
own_same (variable.Access t) place = record { here = refl; outer = refl; pools = refl; placed = refl; bodies = refl; exceptions = refl; texts = refl; controlled = refl; limited = refl; specified = refl; overridden = refl; kept = refl }
own_same (variable.Record object) place = record { here = refl; outer = refl; pools = refl; placed = refl; bodies = refl; exceptions = refl; texts = refl; controlled = refl; limited = refl; specified = refl; overridden = refl; kept = refl }

-- a formal is the next variable, and, where it is a record, is known by the next type
formal_agrees : (k m : Known) (place : Place) (f : FormalTree) (before : Formals) (b : Bool) → Agrees (with_body b before m) place → Agrees (with_body b (with_formal k f before) m) (with_new_formal (formal_mode f.input f.output) (formal_kind (known_by k before) (formal_type k before f.type_name)) f.name place)
unfolding with_formal
formal_agrees k m place f before b w =
    let o = formal_type k before f.type_name in
    let mode = formal_mode f.input f.output in
    let kind = formal_kind (known_by k before) o in
    let x : VariableNo = record { 0 = length before.variables } in
    let v : VariableForm = record { name = f.name.text; spot = f.name.spot; kind = kind; borrows = false } in
    let next = with_own_type kind place in
    let same = own_same kind place in
    let types : next.types ≡ length (m.types ++ (before.types ++ formal_types o)) =
    own_types_count (known_by k before) o (m.types ++ before.types) place w.types ∙ ap (λ (ts : List TypeForm). length ts) (append_assoc m.types before.types (formal_types o)) in
    subst (λ (p : Place). Agrees (with_body b (with_formal k f before) m) p) (sym (formal_place mode kind f.name place)) (record {
      here = stands_entered before.names next.here f.name (formal_entity mode x kind) (meaning_of mode place.variables)
          (formal_bound mode x kind place.variables w.variables)
          (subst (λ (bs : List Binding). (text : List ℕ) → Stands (named text before.names) (meaning_among text bs)) (sym same.here) w.here);
      outer = subst (λ (bs : List Binding). (text : List ℕ) → Stands (from_within m.variables (named_in text (parts m))) (meaning_among text bs)) (sym same.outer) w.outer;
      first_type = own_first_type kind place (w.first_type ∙ sym w.types) ∙ types;
      types = types;
      pools = same.pools ∙ w.pools;
      placed = λ t.
          ap (λ (ts : List ℕ). is_one_of t ts) same.placed ∙ (w.placed t ∙
          (sym (own_types_pools o (m.types ++ before.types) t) ∙ ap (λ (ts : List TypeForm). is_some (pool_of ts t)) (append_assoc m.types before.types (formal_types o))));
      bodies = same.bodies ∙ w.bodies;
      variables = ap (λ (n : ℕ). n + 1) w.variables ∙ sym (length-append before.variables (v ∷ []));
      exceptions = same.exceptions ∙ w.exceptions;
      texts = same.texts ∙ w.texts;
      controlled = same.controlled ∙ w.controlled;
      limited = λ t. ap (λ (ts : List ℕ). is_one_of t ts) same.limited ∙ w.limited t;
      specified = λ a t. ap (λ (ss : List Specification). formal_among a t ss) same.specified ∙ w.specified a t;
      overridden = λ a t.
          ap (λ (ts : List TypeForm). overrider a ts t) (sym (append_assoc m.types before.types (formal_types o))) ∙ (own_types_override o (m.types ++ before.types) a t ∙
          (w.overridden a t ∙ ap (λ (os : List Overriding). procedure_among a t os) (sym same.overridden)));
      kept = same.kept ∙ w.kept;
    })

formal_modes : (k : Known) (f : FormalTree) (before : Formals) → (with_formal k f before).modes ≡ before.modes ++ formal_mode f.input f.output ∷ []
unfolding with_formal
formal_modes k f before = refl

formal_there : (k : Known) (f : FormalTree) (before : Formals) → slice_get (with_formal k f before).variables (length before.variables) ≡ Some (record { name = f.name.text; spot = f.name.spot; kind = formal_kind (known_by k before) (formal_type k before f.type_name); borrows = false })
unfolding with_formal
formal_there k f before = get_last before.variables (record { name = f.name.text; spot = f.name.spot; kind = formal_kind (known_by k before) (formal_type k before f.type_name); borrows = false })

formal_grows : (k : Known) (f : FormalTree) (before : Formals) (x : ℕ) (v : VariableForm) → slice_get before.variables x ≡ Some v → slice_get (with_formal k f before).variables x ≡ Some v
unfolding with_formal
formal_grows k f before x v is = get_more before.variables (record { name = f.name.text; spot = f.name.spot; kind = formal_kind (known_by k before) (formal_type k before f.type_name); borrows = false }) x v is

formals_grow : (k : Known) (fs : List FormalTree) (before : Formals) (x : ℕ) (v : VariableForm) → slice_get before.variables x ≡ Some v → slice_get (with_formals k fs before).variables x ≡ Some v
formals_grow k [] before x v is = is
formals_grow k (f ∷ fs) before x v is = formals_grow k fs (with_formal k f before) x v (formal_grows k f before x v is)

-- types that are there stay as there are more formals
types_grow : (k : Known) (f : FormalTree) (before : Formals) (n : ℕ) (form : TypeForm) → slice_get (k.types ++ before.types) n ≡ Some form → slice_get (k.types ++ (with_formal k f before).types) n ≡ Some form
unfolding with_formal
types_grow k f before n form is =
    let own = formal_types (formal_type k before f.type_name) in
    subst (λ (ts : List TypeForm). slice_get ts n ≡ Some form) (append_assoc k.types before.types own) (get_front (k.types ++ before.types) own n form is)

all_types_grow : (k : Known) (fs : List FormalTree) (before : Formals) (n : ℕ) (form : TypeForm) → slice_get (k.types ++ before.types) n ≡ Some form → slice_get (k.types ++ (with_formals k fs before).types) n ≡ Some form
all_types_grow k [] before n form is = is
all_types_grow k (f ∷ fs) before n form is = all_types_grow k fs (with_formal k f before) n form (types_grow k f before n form is)

-- a formal that is a record is known by the next type
own_type_there : (k : Known) (f : FormalTree) (before : Formals) (t : TypeNo) (size : ℕ) → formal_type k before f.type_name ≡ Some (entity.Record t size) → slice_get (k.types ++ (with_formal k f before).types) (length (k.types ++ before.types)) ≡ Some (object_of t.0)
unfolding with_formal
own_type_there k f before t size is =
    let types = k.types ++ before.types in
    subst (λ (ts : List TypeForm). slice_get ts (length types) ≡ Some (object_of t.0)) (append_assoc k.types before.types (object_of t.0 ∷ []) ∙ ap (λ (o : Option Entity). k.types ++ (before.types ++ formal_types o)) (sym is))
    (get_last types (object_of t.0))

-- a record type that is named for a formal, and the type by which that is known
abbrev IsOwnNamed : Context → ℕ → List ℕ → ℕ → Type 0
IsOwnNamed p own text t = (slice_get p.types own ≡ Some (object_of t)) × IsFullRecordNamed p text t

-- the type of a formal is the one that is written
kind_named : (p : Context) (n : ℕ) (text : List ℕ) (own : TypeNo) (o : Option Entity) (name : Ident) → own.0 ≡ n → (o ≡ Some entity.Integer → text ≡ codes "INTEGER") → (o ≡ Some entity.Boolean → text ≡ codes "BOOLEAN") → ((t : TypeNo) → o ≡ Some (entity.Access t) → IsAccessNamed p text t.0) → ((t : TypeNo) (size : ℕ) → o ≡ Some (entity.Record t size) → IsOwnNamed p n text t.0) → Quiet (formal_type_wanted o name) → IsFormalNamed p n text (formal_kind own o)
kind_named p n text own (Some entity.Integer) name same i b a r q = i refl
kind_named p n text own (Some entity.Boolean) name same i b a r q = b refl
kind_named p n text own (Some (entity.Access t)) name same i b a r q = a t refl
kind_named p n text own (Some (entity.Record t size)) name same i b a r q = let there = r t size refl in (same, t.0, there.0, there.1)
kind_named p n text own (Some e) name same i b a r q = absurd q
kind_named p n text own None name same i b a r q = absurd q

-- no formal is a type: one that is named for a formal is bound around the body
abbrev IsType : Entity → Type 0
IsType (entity.Access t) = Unit {0}
IsType (entity.Record t size) = Unit {0}
IsType e = ⊥

formal_no_type : (variables : List VariableForm) (text : List ℕ) (e : Entity) → IsFormal variables text e → IsType e → ⊥
formal_no_type variables text (entity.Parameter x kind) f is = is
formal_no_type variables text (entity.Variable x kind) f is = is
formal_no_type variables text e f is = f

around_named : (k : Known) (p : Context) (around : Place) (before : Formals) (name : Ident) (e : Entity) (meaning : Meaning) → IsType e → bound_to e ≡ Some meaning → FormalsSound before → Agrees k around → ((text : List ℕ) → Stands (named text before.names) (meaning_among text p.place.here)) → (EntityRead (read_at around p) name.text e → IsBound (read_at around p) name.text meaning) → formal_type k before name ≡ Some e → (visible k name.text ≡ Some e) × IsBound (read_at (in_profile around p.place) p) name.text meaning
around_named k p around before name e meaning typed bound f v here read is = by_own (named name.text before.names) refl (here name.text) is
  where
    by_own : (o : Option Entity) → named name.text before.names ≡ o → Stands o (meaning_among name.text p.place.here) → first_named o (visible k name.text) ≡ Some e → (visible k name.text ≡ Some e) × IsBound (read_at (in_profile around p.place) p) name.text meaning
    by_own None own none is = (is, bound_behind name.text p.place.here (around.here ++ around.outer) meaning none (read (visible_read k (read_at around p) v name.text e is)))
    by_own (Some x) own stands is = absurd (formal_no_type before.variables name.text e (f.names name.text e (own ∙ is)) typed)

access_read : (k : Known) (p : Context) (around : Place) (before : Formals) (name : Ident) (t : TypeNo) → Sound k → FormalsSound before → Agrees k around → ((text : List ℕ) → Stands (named text before.names) (meaning_among text p.place.here)) → AreIn (forms k.types) (forms p.types) → formal_type k before name ≡ Some (entity.Access t) → IsAccessNamed (read_at (in_profile around p.place) p) name.text t.0
access_read k p around before name t s f v here types is =
    let there = around_named k p around before name (entity.Access t) (a_type t.0) tt refl f v here (λ r. r) is in
    let found = visible_fits k s.names name.text (entity.Access t) there.0 in
    let last = access_stays k.types p.types types t.0 name.text found.0 found.1 found.2 in
    (there.1, found.0, last.0, last.1)

record_read : (k : Known) (p : Context) (around : Place) (before : Formals) (name : Ident) (t : TypeNo) (size : ℕ) → Sound k → FormalsSound before → Agrees k around → ((text : List ℕ) → Stands (named text before.names) (meaning_among text p.place.here)) → AreIn (forms k.types) (forms p.types) → formal_type k before name ≡ Some (entity.Record t size) → IsFullRecordNamed (read_at (in_profile around p.place) p) name.text t.0
record_read k p around before name t size s f v here types is =
    let there = around_named k p around before name (entity.Record t size) (a_type t.0) tt refl f v here (λ r. r) is in
    let found = visible_fits k s.names name.text (entity.Record t size) there.0 in
    let last = record_stays k.types p.types types t.0 name.text found.0 found.1 found.2 found.3 in
    (there.1, found.0, found.1, last.0, last.1)

-- no formal has the name of a type
type_read : (k : Known) (p : Context) (own : Option Entity) (m : Option Meaning) (name : Ident) (e : Entity) → bound_to e ≡ None → Agrees k p.place → Stands own m → first_named own (visible k name.text) ≡ Some e → EntityRead p name.text e
type_read k p None m name e unbound w s is = visible_read k p w name.text e is
type_read k p (Some x) m name e unbound w s is =
    let same : x ≡ e = cc is in
    absurd (no_meaning (sym (ap bound_to same ∙ unbound) ∙ s.1))
  where
    no_meaning : None ≡ Some s.0 → ⊥
    no_meaning so = cc so

-- the mode of a formal is the one that is written
mode_read : (f : FormalTree) (input output : Option Spot) → f.input ≡ input → f.output ≡ output → Quiet (mode_remark input output) → IsModeRead f (formal_mode input output)
mode_read f input None i o q = o
mode_read f None (Some out) i o q = absurd q
mode_read f (Some word) (Some out) i o q = (word, out, i, o)

no_override : (o : Option Spot) → Quiet (overriding_remark o) → o ≡ None
no_override None q = refl
no_override (Some spot) q = absurd q

-- formals, one behind the other: they have modes that come behind those before them
pub record FormalsRead (p : Context) (around : Place) (fs : List FormalTree) (before all : List FormalMode) (m : Known) : Type 0 where
  pub end : Place
  pub modes : List FormalMode
  pub read : AreFormalsRead p around fs modes end
  pub in_all : all ≡ before ++ modes
  pub agrees : Agrees m end

formals_read : (k m : Known) (p : Context) (around : Place) (fs : List FormalTree) (before : Formals) (b : Bool) → Sound k → FormalsSound before → Agrees k around → m.types ≡ k.types → Agrees (with_body b before m) p.place → AreIn (forms (k.types ++ (with_formals k fs before).types)) (forms p.types) → Quiet (formals_remark k before fs) → ((x : ℕ) (v : VariableForm) → slice_get (with_formals k fs before).variables x ≡ Some v → slice_get p.variables x ≡ Some v) → FormalsRead p around fs before.modes (with_formals k fs before).modes (with_body b (with_formals k fs before) m)
unfolding formal_remark
formals_read k m p around [] before b s g v alike w types q ahead = record { end = p.place; modes = []; read = refl; in_all = sym (append-nil before.modes); agrees = w }
formals_read k m p around (f ∷ fs) before b s g v alike w types q ahead =
    let more = with_formal k f before in
    let mode = formal_mode f.input f.output in
    let found = formal_type k before f.type_name in
    let number = known_by k before in
    let kind = formal_kind number found in
    let next = with_new_formal mode kind f.name p.place in
    let rest = formals_read k m (read_at next p) around fs more b s (formal_sound k f before g) v alike (formal_agrees k m p.place f before b w) types q.1 ahead in
    let there : slice_get p.variables (length before.variables) ≡ Some (record { name = f.name.text; spot = f.name.spot; kind = kind; borrows = false }) =
    ahead (length before.variables) (record { name = f.name.text; spot = f.name.spot; kind = kind; borrows = false })
    (formals_grow k fs more (length before.variables) (record { name = f.name.text; spot = f.name.spot; kind = kind; borrows = false }) (formal_there k f before)) in
    let o = read_at around p in
    let own = named f.type_name.text before.names in
    let bound = meaning_among f.type_name.text p.place.here in
    let all = k.types ++ (with_formals k fs more).types in
    let old : AreIn (forms k.types) (forms p.types) = λ n form is. types n form (forms_in k.types all (λ i x there. get_front k.types (with_formals k fs more).types i x there) n form is) in
    let count : p.place.types ≡ length (k.types ++ before.types) = w.types ∙ ap (λ (ts : List TypeForm). length (ts ++ before.types)) alike in
    record {
      end = rest.end;
      modes = mode ∷ rest.modes;
      read = (
        kind,
        (not_bound (quiet_if (is_some (named f.name.text before.names)) f.name.spot DeclaredTwice q.0.1.1.0), not_predefined f.name q.0.1.0),
        mode_read f f.input f.output refl refl q.0.1.1.1.1.0,
        kind_named (read_at (in_profile around p.place) p) p.place.types f.type_name.text number found f.type_name
            (sym (count ∙ length-append k.types before.types))
            (λ is. type_read k o own bound f.type_name entity.Integer refl v (w.here f.type_name.text) is)
            (λ is. type_read k o own bound f.type_name entity.Boolean refl v (w.here f.type_name.text) is)
            (λ t is. access_read k p around before f.type_name t s g v w.here old is)
            (λ t size is. (
              ap (λ (n : ℕ). slice_get p.types n) count ∙
                  object_stays all p.types types (length (k.types ++ before.types)) t.0
                  (all_types_grow k fs more (length (k.types ++ before.types)) (object_of t.0) (own_type_there k f before t size is)),
              record_read k p around before f.type_name t size s g v w.here old is,
            ))
            q.0.1.1.1.1.1,
        ap (λ (n : ℕ). slice_get p.variables n) w.variables ∙ there,
        rest.read,
      );
      in_all = rest.in_all ∙ (ap (λ (ms : List FormalMode). ms ++ rest.modes) (formal_modes k f before) ∙ append_assoc before.modes (mode ∷ []) rest.modes);
      agrees = rest.agrees;
    }
  where
    not_bound : is_some (named f.name.text before.names) ≡ false → meaning_among f.name.text p.place.here ≡ None
    not_bound off = by_name (named f.name.text before.names) off (w.here f.name.text)
      where
        by_name : (o : Option Entity) → is_some o ≡ false → Stands o (meaning_among f.name.text p.place.here) → meaning_among f.name.text p.place.here ≡ None
        by_name None off s = s
        by_name (Some e) off s = absurd (cc off)

-- what a body overrides, by its head
pub record HeadNamed (k : Known) (head : HeadTree) : Type 0 where
  pub overrides : Option (Operation × ℕ)
  pub is_of : IsOf (operation_named head.name.text) overrides
  pub operand : (which : Operation × ℕ) → overrides ≡ Some which → (operation_named head.name.text ≡ Some which.0) × (head_operand (Some which.0) k head ≡ Some which.1)

pub head_named : (k : Known) (head : HeadTree) → Quiet (body_head_remark k head) → HeadNamed k head
unfolding body_head_remark
head_named k head q = by_name (operation_named head.name.text) refl q.1.1.1.1
  where
    same_pair : (one other : Operation × ℕ) → Some one ≡ Some other → (one.0 ≡ other.0) × (one.1 ≡ other.1)
    same_pair one other e = let same : one ≡ other = cc e in (ap (λ (x : Operation × ℕ). x.0) same, ap (λ (x : Operation × ℕ). x.1) same)

    by_operand : (o : Operation) → operation_named head.name.text ≡ Some o → (found : Option ℕ) → head_operand (Some o) k head ≡ found → Quiet (operand_wanted found k o head) → HeadNamed k head
    by_operand o is None found q = absurd q
    by_operand o is (Some t) found q = record {
      overrides = Some (o, t);
      is_of = subst (λ (x : Option Operation). IsOf x (Some (o, t))) (sym is) refl;
      operand = λ which e.
          let same = same_pair (o, t) which e in
          (is ∙ ap (λ (x : Operation). Some x) same.0, subst (λ (x : Operation). head_operand (Some x) k head ≡ Some which.1) same.0 (found ∙ ap (λ (n : ℕ). Some n) same.1));
    }

    by_name : (o : Option Operation) → operation_named head.name.text ≡ o → Quiet (head_name_remark o (head_operand o k head) k head) → HeadNamed k head
    by_name None is q = record { overrides = None; is_of = subst (λ (x : Option Operation). IsOf x None) (sym is) tt; operand = λ which e. absurd (cc e) }
    by_name (Some o) is q = by_operand o is (head_operand (Some o) k head) refl q

-- the head of a body
pub record HeadRead (p : Context) (head : HeadTree) (overrides : Option (Operation × ℕ)) (b : BodyForm) (m : Known) : Type 0 where
  pub end : Place
  pub head_so : IsHeadRead p head overrides
  pub read : AreFormalsRead (in_body overrides head.name b p) p.place head.formals m.here.modes end
  pub agrees : Agrees m end

-- what is written before it
head_said : (k : Known) (p : Context) (head : HeadTree) (h : HeadNamed k head) → Sound k → Agrees k p.place → RecordsStay k p → Quiet (overriding_unless (operation_named head.name.text) head.overriding) → Quiet (head_name_remark (operation_named head.name.text) (head_operand (operation_named head.name.text) k head) k head) → IsHeadRead p head h.overrides
head_said k p head h s w stays r q = by_name (operation_named head.name.text) h.overrides refl refl h.is_of r q
  where
    by_name : (o : Option Operation) (overrides : Option (Operation × ℕ)) → operation_named head.name.text ≡ o → h.overrides ≡ overrides → IsOf o overrides → Quiet (overriding_unless o head.overriding) → Quiet (head_name_remark o (head_operand o k head) k head) → IsHeadRead p head overrides
    by_name None None name_is is same r q = (new_there k p.place head.name (head_spot head) w q, no_override head.overriding r, not_named head.name.text name_is)
    by_name (Some o) (Some which) name_is is same r q =
        let found = h.operand which is in
        let own : head_operand (Some o) k head ≡ Some which.1 = subst (λ (x : Operation). head_operand (Some x) k head ≡ Some which.1) (sym same) found.1 in
        operation_body k p which.0 head which.1 s.names w stays found.0 found.1
        (subst (λ (x : Operation). Quiet (operand_wanted (Some which.1) k x head)) same (subst (λ (t : Option ℕ). Quiet (operand_wanted t k o head)) own q))
    by_name None (Some which) name_is is same r q = absurd same
    by_name (Some o) None name_is is same r q = absurd same

-- whether it keeps its operand
operand_kept_so : (k : Known) (place : Place) (head : HeadTree) (h : HeadNamed k head) → Agrees k place → keeps_own h.overrides place.limited ≡ keeps_its_operand (operation_named head.name.text) k (with_formals k head.formals no_formals)
operand_kept_so k place head h w = by_overrides h.overrides refl (operation_named head.name.text) refl h.is_of
  where
    by_overrides : (overrides : Option (Operation × ℕ)) → h.overrides ≡ overrides → (o : Option Operation) → operation_named head.name.text ≡ o → IsOf o overrides → keeps_own overrides place.limited ≡ keeps_its_operand o k (with_formals k head.formals no_formals)
    by_overrides None is None named_is of = refl
    by_overrides (Some which) is (Some o) named_is of =
        let found = h.operand which is in
        let own : head_operand (Some o) k head ≡ Some which.1 = subst (λ (x : Operation). head_operand (Some x) k head ≡ Some which.1) (sym of) found.1 in
        ap not (w.limited which.1) ∙ ap (λ (t : Option ℕ). operand_kept k t) (sym own)
    by_overrides None is (Some o) named_is of = absurd of
    by_overrides (Some which) is None named_is of = absurd of

pub head_read : (k : Known) (p : Context) (head : HeadTree) (b : BodyForm) (h : HeadNamed k head) → Sound k → Agrees k p.place → Quiet (body_head_remark k head) → Ahead (behind_head k head) (in_body h.overrides head.name b p) → HeadRead p head h.overrides b (behind_head k head)
unfolding body_head_remark behind_head
head_read k p head b h s w q ahead =
    let around = around_body k head in
    let formals = with_formals k head.formals no_formals in
    let more = formals.types in
    let keeps = keeps_its_operand (operation_named head.name.text) k formals in
    let r = formals_read k around (in_body h.overrides head.name b p) p.place head.formals no_formals keeps s no_formal w refl
    (body_agrees k p.place head h.overrides keeps h.is_of (operand_kept_so k p.place head h w) w) ahead.types q.1.1.1.0 ahead.variables in
    let old : AreIn (forms k.types) (forms p.types) = λ n form is. ahead.types n form (forms_in k.types (k.types ++ more) (λ i x there. get_front k.types more i x there) n form is) in
    record {
      end = r.end;
      head_so = head_said k p head h s w (λ text t size is ps cs final there. let last = record_stays k.types p.types old t.0 text ps cs final there in (last.0, last.1)) q.1.1.0 q.1.1.1.1;
      read = subst (λ (ms : List FormalMode). AreFormalsRead (in_body h.overrides head.name b p) p.place head.formals ms r.end) (sym r.in_all) r.read;
      agrees = r.agrees;
    }

-- behind a body its name is that of the procedure
twice_is : (b : Bool) (x y : Entity) (o : Option Entity) → cond b (Some x) (cond b (Some y) o) ≡ cond b (Some x) o
twice_is true x y o = refl
twice_is false x y o = refl

stands_again : (ns : List Named) (bs : List Binding) (name : Ident) (a e : Entity) (meaning : Meaning) → bound_to e ≡ Some meaning → ((text : List ℕ) → Stands (named text ns) (meaning_among text bs)) → (text : List ℕ) → Stands (named text (entered name.text e (entered name.text a ns))) (meaning_among text (record { text = name.text; meaning = meaning } ∷ bs))
stands_again ns bs name a e meaning own old text =
    subst (λ (o : Option Entity). Stands o (meaning_among text (record { text = name.text; meaning = meaning } ∷ bs)))
    (sym (named_entered (entered name.text a ns) name.text text e ∙
    (ap (λ (o : Option Entity). cond (bytes_eq text name.text) (Some e) o) (named_entered ns name.text text a) ∙ twice_is (bytes_eq text name.text) e a (named text ns))))
    (stands_more (bytes_eq text name.text) e meaning (named text ns) (meaning_among text bs) own (old text))

-- behind a body
abbrev pub IsFinalizedRecord : List TypeForm → ℕ → Type 0
IsFinalizedRecord types t =
    (name : List ℕ) × (ps : List PartForm) × (cs : List ComponentKind) × (f : Finalized) × (slice_get types t ≡ Some (record_of name ps cs (Some f)))

-- what it overrides is there
abbrev pub IsThere : Option (Operation × ℕ) → List TypeForm → Option ℕ → Type 0
IsThere None types t = Unit {0}
IsThere (Some which) types t = (t ≡ Some which.1) × IsFinalizedRecord types which.1

answered_alike : (o : Option Operation) (ss : Specifications) (a : Operation) → specified_for a (answered o ss) ≡ specified_for a ss
answered_alike None ss a = refl
answered_alike (Some o) ss Initialize = refl
answered_alike (Some o) ss Adjust = refl
answered_alike (Some o) ss Finalize = refl

same_length : (types more : List TypeForm) → forms more ≡ forms types → length more ≡ length types
same_length types more same = sym (forms_length more) ∙ (ap (λ (ts : List TypeForm). length ts) same ∙ forms_length types)

closed_agrees : (k z : Known) (name : Ident) (b : BodyForm) (o : Option Operation) (overrides : Option (Operation × ℕ)) (t : Option ℕ) (place done : Place) → IsOf o overrides → IsThere overrides z.types t → Agrees k place → Agrees z done → Agrees (closed o name.text (next_procedure z) t (left_body (declared_unless o k name.text entity.Procedure) z b)) (behind_body overrides name place done)
closed_agrees k z name b None None t place done is there w v = record {
  here = stands_again k.here.names place.here name entity.Procedure (entity.Callable (next_procedure z)) (a_procedure done.bodies)
      (ap (λ (n : ℕ). Some (a_procedure n)) (sym v.bodies)) w.here;
  outer = w.outer;
  first_type = w.first_type;
  types = v.types;
  pools = v.pools;
  placed = v.placed;
  bodies = ap (λ (n : ℕ). n + 1) v.bodies ∙ sym (length-append z.bodies (b ∷ []));
  variables = w.variables;
  exceptions = v.exceptions;
  texts = v.texts;
  controlled = v.controlled;
  limited = v.limited;
  specified = w.specified;
  overridden = v.overridden;
  kept = w.kept;
}
closed_agrees k z name b (Some o) (Some which) t place done same there w v =
    let n : ProcedureNo = record { 0 = length z.bodies } in
    let m : ProcedureNo = record { 0 = done.bodies } in
    let f = there.1 in
    let now : overridden_if (Some o) n t z.types ≡ overridden which.0 n z.types which.1 =
    ap (λ (x : Option ℕ). overridden_if (Some o) n x z.types) there.0 ∙ ap (λ (x : Operation). overridden x n z.types which.1) same in
    record {
      here = w.here;
      outer = w.outer;
      first_type = w.first_type;
      types = v.types ∙ sym (same_length z.types (overridden_if (Some o) n t z.types) (if_forms (Some o) n t z.types));
      pools = v.pools;
      placed = λ u. v.placed u ∙ ap (λ (p : Option ℕ). is_some p) (sym (if_pool (Some o) n t z.types u));
      bodies = ap (λ (n : ℕ). n + 1) v.bodies ∙ sym (length-append z.bodies (b ∷ []));
      variables = w.variables;
      exceptions = v.exceptions;
      texts = v.texts;
      controlled = v.controlled;
      limited = v.limited;
      specified = λ a u. w.specified a u ∙ ap (λ (ss : List Specified). formal_specified u ss) (sym (answered_alike (Some o) k.here.specified a));
      overridden = λ a u.
          ap (λ (ts : List TypeForm). overrider a ts u) now ∙ (overrider_now which.0 n z.types which.1 f.0 f.1 f.2 f.3 f.4 a u ∙
          (ap (λ (i : ℕ). cond (is_this_operation a which.0 u which.1) (Some (record { 0 = i })) (overrider a z.types u)) (sym v.bodies) ∙
          ap (λ (x : Option ProcedureNo). cond (is_this_operation a which.0 u which.1) (Some m) x) (v.overridden a u)));
      kept = w.kept;
    }
closed_agrees k z name b None (Some which) t place done is there w v = absurd is
closed_agrees k z name b (Some o) None t place done is there w v = absurd is

pub ended_agrees : (k z : Known) (head : HeadTree) (overrides : Option (Operation × ℕ)) (fs : StmtsForm) (hs : HandlersForm) (start last : Spot) (place done : Place) → InBody (around_body k head) z → IsOf (operation_named head.name.text) overrides → IsThere overrides z.types (operand_of z.types z.here.modes z.variables) → Agrees k place → Agrees z done → Agrees (body_ended head.name fs hs start last z) (behind_body overrides head.name place done)
ended_agrees k z head overrides fs hs start last place done f is there w v =
    subst (λ (u : Known). Agrees u (behind_body overrides head.name place done)) (sym (ended_is (around_body k head) z head.name fs hs start last f))
    (closed_agrees k z head.name (body_of z fs hs start last) (operation_named head.name.text) overrides (operand_of z.types z.here.modes z.variables) place done is there w v)

-- the tables within a body
pub ahead_within : (k z : Known) (head : HeadTree) (overrides : Option (Operation × ℕ)) (fs : StmtsForm) (hs : HandlersForm) (start last : Spot) (p : Context) → InBody (around_body k head) z → Ahead (body_ended head.name fs hs start last z) p → Ahead z (in_body overrides head.name (body_of z fs hs start last) p)
ahead_within k z head overrides fs hs start last p f w =
    let b = body_of z fs hs start last in
    let o = operation_named head.name.text in
    let n = next_procedure z in
    let t = operand_of z.types z.here.modes z.variables in
    let v : Ahead (closed o head.name.text n t (left_body (around_body k head) z b)) p =
    subst (λ (u : Known). Ahead u p) (ended_is (around_body k head) z head.name fs hs start last f) w in
    record {
      types = λ u form is. v.types u form (ap (λ (ts : List TypeForm). slice_get ts u) (if_forms o n t z.types) ∙ is);
      placed = λ u pool is. v.placed u pool (if_pool o n t z.types u ∙ is);
      pools = v.pools;
      variables = λ x u is. is;
      exceptions = v.exceptions;
      texts = v.texts;
      bodies = λ n c is. v.bodies n c (get_more z.bodies b n c is);
    }

-- the body is that of the program
pub body_there : (k z : Known) (head : HeadTree) (fs : StmtsForm) (hs : HandlersForm) (start last : Spot) (p : Context) (done : Place) → InBody (around_body k head) z → Ahead (body_ended head.name fs hs start last z) p → Agrees z done → slice_get p.bodies done.bodies ≡ Some (body_of z fs hs start last)
body_there k z head fs hs start last p done f w v =
    let b = body_of z fs hs start last in
    let last : Ahead (closed (operation_named head.name.text) head.name.text (next_procedure z) (operand_of z.types z.here.modes z.variables) (left_body (around_body k head) z b)) p =
    subst (λ (u : Known). Ahead u p) (ended_is (around_body k head) z head.name fs hs start last f) w in
    ap (λ (n : ℕ). slice_get p.bodies n) v.bodies ∙ last.bodies (length z.bodies) b (get_last z.bodies b)
