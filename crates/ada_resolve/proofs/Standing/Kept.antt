-- What of the tables stays where a name is declared, or completed.

use Rattle.std.proofs.Common.{◌≡◌, ◌∙◌, ℕ, ◌<◌, ◌≤◌, Bool, true, false, cond, List, [], ◌∷◌, ◌++◌, length, refl, sym, ap, subst, eqb, eqb-true, eq-eqb, arith}
use Rattle.std.specs.Prelude.{Option, Some, None, bytes_eq, is_some}
use Rattle.std.specs.List.{slice_get, slice_set}
use Rattle.ada_text.specs.declared.spot.Spot.{Spot}
use Rattle.ada_tree.specs.Names.{Ident}
use Rattle.ada_program.specs.declared.program.PoolNo.{PoolNo}
use Rattle.ada_program.specs.declared.program.TypeNo.{TypeNo}
use Rattle.ada_program.specs.Form.{DeclarationForm}
use Rattle.ada_program.specs.ProgramForm.{PoolForm, TypeForm, record_of, access_to, object_of, VariableForm}
use Rattle.ada_resolve.specs.declared.fault.NameRule.TheVariants.{DeclaredTwice}
use Rattle.ada_resolve.specs.declared.primitives.Operation.{Operation}
use Rattle.ada_resolve.specs.declared.scope.Entity.{Entity}
use Rattle.ada_resolve.specs.declared.scope.Entity.TheVariants as entity
use Rattle.ada_resolve.specs.Clauses.{pool_of, with_placed}
use Rattle.ada_resolve.specs.Exceptions.{with_exception}
use Rattle.ada_resolve.specs.Instances.{with_frozen}
use Rattle.ada_resolve.specs.Known.{Known, Named, Specifications, named, entered, declared, new_name_remark, no_body_yet, with_elaborated}
use Rattle.ada_resolve.specs.Objects.{with_variable}
use Rattle.ada_resolve.specs.Paths.{name_of_type}
use Rattle.ada_resolve.specs.Pools.{with_pool}
use Rattle.ada_resolve.specs.Primitives.{overrider}
use Rattle.ada_resolve.specs.Types.{incomplete_of, completed_type, new_unless, defined, number_of, with_definition}
use Rattle.ada_resolve.proofs.Operating.{Inherits, inherits_none, overrider_more, overrider_placed, overrider_set}
use Rattle.ada_resolve.proofs.WellFormed.Forms.{AreIn, bare, forms, forms_in, form_as, form_there, access_there, same_at}
use Rattle.ada_resolve.proofs.WellFormed.Placed.{placed_forms, pools_in, pools_placed, pools_set}
use Rattle.ada_resolve.proofs.WellFormed.Remarks.{Quiet, quiet_if}
use Rattle.ada_resolve.proofs.WellFormed.Names.{all_entered, named_entered, text_same}
use Rattle.ada_resolve.proofs.WellFormed.Tables.{get_more, get_last, get_set, get_other, get_within}
use Rattle.ada_resolve.proofs.Standing.Order.{IsSettledEntity, Keeps, Sound, longer_types}
use Rattle.ada_resolve.proofs.Standing.Types.{IsBehind, length_set, one_longer}

-- a name that is new, or that of an incomplete type that is completed
abbrev pub IsSlot : Known → List ℕ → Option TypeNo → Type 0
IsSlot k text None = named text k.here.names ≡ None
IsSlot k text (Some t) = named text k.here.names ≡ Some (entity.Incomplete t)

pub new_slot : (k : Known) (name : Ident) (spot : Spot) → Quiet (new_name_remark k name spot) → named name.text k.here.names ≡ None
new_slot k name spot q = by_name (named name.text k.here.names) refl (quiet_if (is_some (named name.text k.here.names)) name.spot DeclaredTwice q.1.0)
  where
    by_name : (o : Option Entity) → named name.text k.here.names ≡ o → is_some (named name.text k.here.names) ≡ false → named name.text k.here.names ≡ None
    by_name None is off = is
    by_name (Some e) is off = let on : is_some (named name.text k.here.names) ≡ true = rw is refl in absurd (cc (on, off))

pub slot_of : (k : Known) (name : Ident) (spot : Spot) → Quiet (new_unless (completed_type k name) (new_name_remark k name spot)) → IsSlot k name.text (completed_type k name)
unfolding completed_type
slot_of k name spot q = by_name (named name.text k.here.names) refl q
  where
    by_name : (o : Option Entity) → named name.text k.here.names ≡ o → Quiet (new_unless (incomplete_of o) (new_name_remark k name spot)) → IsSlot k name.text (incomplete_of o)
    by_name None is q = is
    by_name (Some (entity.Incomplete t)) is q = is
    by_name (Some e) is q = new_slot k name spot q

-- a name that stands for something is another than a new one
pub old_name : (ns : List Named) (text t : List ℕ) (e x : Entity) → named text ns ≡ None → named t ns ≡ Some x → named t (entered text e ns) ≡ Some x
old_name ns text t e x none is = named_entered ns text t e ∙ by_text (bytes_eq t text) refl
  where
    by_text : (b : Bool) → bytes_eq t text ≡ b → cond b (Some e) (named t ns) ≡ Some x
    by_text false off = is
    by_text true on = absurd (gone (subst (λ (u : List ℕ). named u ns ≡ Some x) (text_same t text on) is))
      where
        gone : named text ns ≡ Some x → ⊥
        gone there = cc (none, there)

-- another thing than this incomplete type
abbrev IsOther : ℕ → Entity → Type 0
IsOther t (entity.Incomplete u) = u.0 ≡ t → ⊥
IsOther t e = Unit {0}

other_of : (t : ℕ) (x : Entity) → ((u : TypeNo) → x ≡ entity.Incomplete u → u.0 ≡ t → ⊥) → IsOther t x
other_of t (entity.Incomplete u) w = w u refl
other_of t x w = tt

other_own : (t n : ℕ) (x : Entity) → t < n → IsBehind n x → IsOther t x
other_own t n (entity.Incomplete u) b own = λ same. omega (arith, b, own, same)
other_own t n x b own = tt

settled_entered : (ns : List Named) (text : List ℕ) (e : Entity) (t : ℕ) → IsOther t e → ((other : List ℕ) (u : TypeNo) → named other ns ≡ Some (entity.Incomplete u) → u.0 ≡ t → ⊥) → (other : List ℕ) (u : TypeNo) → named other (entered text e ns) ≡ Some (entity.Incomplete u) → u.0 ≡ t → ⊥
settled_entered ns text e t own old other u is =
    all_entered (λ v x. IsOther t x) ns text e own (λ v x ne there. other_of t x (λ w same. old v w (there ∙ ap (λ y. Some y) same))) other (entity.Incomplete u) is

-- the same procedures override operations of the same types
abbrev pub OverridesSame : List TypeForm → List TypeForm → Type 0
OverridesSame types more = (o : Operation) (t : ℕ) → overrider o more t ≡ overrider o types t

-- a new name, with types that only grow; it stands for no incomplete type, or for a new one
pub keeps_new : (k : Known) (text : List ℕ) (e : Entity) (types : List TypeForm) (n : ℕ) → named text k.here.names ≡ None → ((t : ℕ) (form : TypeForm) → slice_get k.types t ≡ Some form → slice_get types t ≡ Some form) → length k.types ≤ length types → IsBehind (length k.types) e → OverridesSame k.types types → Keeps k (declared (record k { types = types; controlled = n }) text e)
keeps_new k text e types n none grow long own same = record {
  types = λ t form is settled. (
    forms_in k.types types grow t form is,
    λ none.
        let there = form_there k.types t form is in
        settled_entered k.here.names text e t (other_own t (length k.types) e (get_within k.types t there.0 there.1) own) (settled none),
  );
  accesses = λ t name d is. forms_in k.types types grow t (access_to name d None) is;
  overridden = λ o t p is. same o t ∙ is;
  overriders = λ o t less. same o t;
  placed = pools_in k.types types grow;
  pools = λ t x is. is;
  type_names = λ t name is. named_type t name (slice_get k.types t) refl is;
  names = λ other x s is. old_name k.here.names text other e x none is;
  more = long;
  variables = λ x v is. is;
  exceptions = λ x v is. is;
  texts = λ t x is. is;
  bodies = λ t x is. is;
  first_type = refl;
  first_variable = refl;
  modes = refl;
  first_body = refl;
  around = refl;
  outer = refl;
  withs = refl;
  procedure = refl;
}
  where
    named_type : (t : ℕ) (name : List ℕ) (o : Option TypeForm) → slice_get k.types t ≡ o → name_of_type o ≡ Some name → name_of_type (slice_get types t) ≡ Some name
    named_type t name None is so = absurd (cc so)
    named_type t name (Some form) is so = ap (λ v. name_of_type v) (grow t form is) ∙ so

-- a new name alone
pub keeps_name : (k : Known) (text : List ℕ) (e : Entity) → named text k.here.names ≡ None → IsBehind (length k.types) e → Keeps k (declared k text e)
keeps_name k text e none own = keeps_new k text e k.types k.controlled none (λ t form is. is) (omega arith) own (λ o t. refl)

-- a completed name
pub keeps_full : (k : Known) (text : List ℕ) (e : Entity) (t : TypeNo) (form : TypeForm) (n : ℕ) → no_body_yet k ≡ true → Sound k → named text k.here.names ≡ Some (entity.Incomplete t) → name_of_type (Some form) ≡ Some text → Inherits form → IsSettledEntity e → Keeps k (declared (record k { types = slice_set k.types t.0 form; controlled = n }) text e)
keeps_full k text e t form n none w there own inherits done = record {
  types = λ u x is settled. (
    other_form u x (λ same. settled none text t there same) is,
    λ yet. settled_entered k.here.names text e u (no_other u e done) (settled yet),
  );
  accesses = λ u name d is.
      let own = access_there k.types u name d is in
      other_form u (access_to name d None) (λ same. no_access name d own.0 (subst (λ (n : ℕ). slice_get k.types n ≡ Some (access_to name d own.0)) (sym same) own.1)) is;
  overridden = λ o u p is. same_full o u ∙ is;
  overriders = λ o u less. same_full o u;
  placed = pools_set k.types t.0 (record_of text [] [] None) form old refl;
  pools = λ t x is. is;
  type_names = λ u name is. by_number u name is (eqb t.0 u) refl;
  names = λ other x s is. named_entered k.here.names text other e ∙ by_text other x s is (bytes_eq other text) refl;
  more = let h = length_set k.types t.0 form in omega arith;
  variables = λ x v is. is;
  exceptions = λ x v is. is;
  texts = λ t x is. is;
  bodies = λ t x is. is;
  first_type = refl;
  first_variable = refl;
  modes = refl;
  first_body = refl;
  around = refl;
  outer = refl;
  withs = refl;
  procedure = refl;
}
  where
    old : slice_get k.types t.0 ≡ Some (record_of text [] [] None)
    old = w.names.0 text (entity.Incomplete t) there

    same_full : OverridesSame k.types (slice_set k.types t.0 form)
    same_full o = overrider_set k.types t.0 (record_of text [] [] None) form old o (inherits_none form inherits o ∙ sym (inherits_none (record_of text [] [] None) refl o))

    no_other : (u : ℕ) (x : Entity) → IsSettledEntity x → IsOther u x
    no_other u (entity.Incomplete v) s = absurd s
    no_other u x s = tt

    no_access : (name : List ℕ) (d : ℕ) (pool : Option ℕ) → slice_get k.types t.0 ≡ Some (access_to name d pool) → ⊥
    no_access name d pool is = let same : Some (access_to name d pool) ≡ Some (record_of text [] [] None) = sym is ∙ old in cc same

    other_form : (u : ℕ) (x : TypeForm) → (t.0 ≡ u → ⊥) → slice_get (forms k.types) u ≡ Some x → slice_get (forms (slice_set k.types t.0 form)) u ≡ Some x
    other_form u x ne is =
        let there = form_there k.types u x is in
        form_as (slice_set k.types t.0 form) u there.0 x (get_other k.types t.0 u form ne ∙ there.1) there.2

    by_number : (u : ℕ) (name : List ℕ) → name_of_type (slice_get k.types u) ≡ Some name → (b : Bool) → eqb t.0 u ≡ b → name_of_type (slice_get (slice_set k.types t.0 form) u) ≡ Some name
    by_number u name is true on =
        let same : t.0 ≡ u = eqb-true t.0 u on in
        let before : Some text ≡ Some name = sym (ap (λ o. name_of_type o) (sym (ap (λ n. slice_get k.types n) same) ∙ old)) ∙ is in
        ap (λ o. name_of_type o) (subst (λ (n : ℕ). slice_get (slice_set k.types t.0 form) n ≡ Some form) same (get_set k.types t.0 (record_of text [] [] None) form old)) ∙ (own ∙ before)
    by_number u name is false off = ap (λ o. name_of_type o) (get_other k.types t.0 u form (λ same. apart (eq-eqb t.0 u same))) ∙ is
      where
        apart : eqb t.0 u ≡ true → ⊥
        apart on = cc (on, off)

    by_text : (other : List ℕ) (x : Entity) → IsSettledEntity x → named other k.here.names ≡ Some x → (b : Bool) → bytes_eq other text ≡ b → cond b (Some e) (named other k.here.names) ≡ Some x
    by_text other x s is false off = is
    by_text other x s is true on = absurd (unsettled x s (sym (subst (λ (n : List ℕ). named n k.here.names ≡ Some x) (text_same other text on) is) ∙ there))
      where
        unsettled : (x : Entity) → IsSettledEntity x → Some x ≡ Some (entity.Incomplete t) → ⊥
        unsettled (entity.Incomplete u) s same = s
        unsettled x s same = cc same

-- a type that is declared
pub keeps_defined : (k : Known) (text : List ℕ) (e : Entity) (c : Option TypeNo) (form : TypeForm) (n : ℕ) → no_body_yet k ≡ true → Sound k → IsSlot k text c → name_of_type (Some form) ≡ Some text → Inherits form → IsSettledEntity e → Keeps k (declared (record k { types = defined c form k.types; controlled = n }) text e)
keeps_defined k text e None form n yet w slot own inherits done =
    keeps_new k text e (k.types ++ form ∷ []) n slot (λ t x is. get_more k.types form t x is) (one_longer k.types form) (own_settled e done) (overrider_more k.types form inherits)
  where
    own_settled : (x : Entity) → IsSettledEntity x → IsBehind (length k.types) x
    own_settled (entity.Incomplete u) s = absurd s
    own_settled x s = tt
keeps_defined k text e (Some t) form n yet w slot own inherits done = keeps_full k text e t form n yet w slot own inherits done

-- it is there
pub defined_there : (k : Known) (text : List ℕ) (c : Option TypeNo) (form : TypeForm) → Sound k → IsSlot k text c → slice_get (defined c form k.types) (number_of c k.types).0 ≡ Some form
defined_there k text None form w slot = get_last k.types form
defined_there k text (Some t) form w slot = get_set k.types t.0 (record_of text [] [] None) form (w.names.0 text (entity.Incomplete t) slot)

-- only what is elaborated changes
pub keeps_elaborated : (es : List DeclarationForm) (k : Known) → Keeps k (with_elaborated es k)
keeps_elaborated es k = record {
  types = λ t x is settled. (is, settled);
  accesses = λ t name d is. is;
  overridden = λ o t p is. is;
  overriders = λ o t less. refl;
  placed = λ t n is. is;
  pools = λ t x is. is;
  type_names = λ t name is. is;
  names = λ text e settled is. is;
  more = omega arith;
  variables = λ t x is. is;
  exceptions = λ t x is. is;
  texts = λ t x is. is;
  bodies = λ t x is. is;
  first_type = refl;
  first_variable = refl;
  modes = refl;
  first_body = refl;
  around = refl;
  outer = refl;
  withs = refl;
  procedure = refl;
}

-- one more type, by which a record object is known
pub keeps_object_type : (r : ℕ) (k : Known) → Keeps k (with_definition None (object_of r) k)
keeps_object_type r k = record {
  types = λ t x is settled. (forms_in k.types (k.types ++ object_of r ∷ []) (λ u y there. get_more k.types (object_of r) u y there) t x is, settled);
  accesses = λ t name d is. forms_in k.types (k.types ++ object_of r ∷ []) (λ u y there. get_more k.types (object_of r) u y there) t (access_to name d None) is;
  overridden = λ o t p is. overrider_more k.types (object_of r) refl o t ∙ is;
  overriders = λ o t less. overrider_more k.types (object_of r) refl o t;
  placed = pools_in k.types (k.types ++ object_of r ∷ []) (λ u y there. get_more k.types (object_of r) u y there);
  pools = λ t x is. is;
  type_names = λ t name is. named_type t name (slice_get k.types t) refl is;
  names = λ text e settled is. is;
  more = one_longer k.types (object_of r);
  variables = λ t x is. is;
  exceptions = λ t x is. is;
  texts = λ t x is. is;
  bodies = λ t x is. is;
  first_type = refl;
  first_variable = refl;
  modes = refl;
  first_body = refl;
  around = refl;
  outer = refl;
  withs = refl;
  procedure = refl;
}
  where
    named_type : (t : ℕ) (name : List ℕ) (o : Option TypeForm) → slice_get k.types t ≡ o → name_of_type o ≡ Some name → name_of_type (slice_get (k.types ++ object_of r ∷ []) t) ≡ Some name
    named_type t name None is so = absurd (cc so)
    named_type t name (Some form) is so = ap (λ v. name_of_type v) (get_more k.types (object_of r) t form is) ∙ so

-- one more variable
pub keeps_variable : (v : VariableForm) (k : Known) → Keeps k (with_variable v k)
keeps_variable v k = record {
  types = λ t x is settled. (is, settled);
  accesses = λ t name d is. is;
  overridden = λ o t p is. is;
  overriders = λ o t less. refl;
  placed = λ t n is. is;
  pools = λ t x is. is;
  type_names = λ t name is. is;
  names = λ text e settled is. is;
  more = omega arith;
  variables = λ t x is. get_more k.variables v t x is;
  exceptions = λ t x is. is;
  texts = λ t x is. is;
  bodies = λ t x is. is;
  first_type = refl;
  first_variable = refl;
  modes = refl;
  first_body = refl;
  around = refl;
  outer = refl;
  withs = refl;
  procedure = refl;
}

-- one more exception
pub keeps_exception : (name : List ℕ) (k : Known) → Keeps k (with_exception name k)
keeps_exception name k = record {
  types = λ t x is settled. (is, settled);
  accesses = λ t name d is. is;
  overridden = λ o t p is. is;
  overriders = λ o t less. refl;
  placed = λ t n is. is;
  pools = λ t x is. is;
  type_names = λ t name is. is;
  names = λ text e settled is. is;
  more = omega arith;
  variables = λ t x is. is;
  exceptions = λ t x is. get_more k.exceptions name t x is;
  texts = λ t x is. is;
  bodies = λ t x is. is;
  first_type = refl;
  first_variable = refl;
  modes = refl;
  first_body = refl;
  around = refl;
  outer = refl;
  withs = refl;
  procedure = refl;
}

-- the name of a type is not that of its pool
pub name_bare : (x : TypeForm) → name_of_type (Some (bare x)) ≡ name_of_type (Some x)
name_bare (record_of name ps cs final) = refl
name_bare (access_to name d pool) = refl
name_bare (object_of r) = refl

-- what leaves the types as they were but for their pools, and has more pools, and nothing else
keeps_housed : (k m : Known) → forms m.types ≡ forms k.types → OverridesSame k.types m.types → ((t n : ℕ) → pool_of k.types t ≡ Some n → pool_of m.types t ≡ Some n) → ((n : ℕ) (p : PoolForm) → slice_get k.pools n ≡ Some p → slice_get m.pools n ≡ Some p) → m ≡ record k { types = m.types; pools = m.pools; frozen = m.frozen } → Keeps k m
keeps_housed k m same operations had more is = subst (λ (v : Known). Keeps k v) (sym is) (record {
  types = λ t x there settled. (grow t x there, settled);
  accesses = λ t name d there. grow t (access_to name d None) there;
  overridden = λ o t p there. operations o t ∙ there;
  overriders = λ o t less. operations o t;
  placed = had;
  pools = more;
  type_names = λ t name there. named_type t name (slice_get k.types t) refl there;
  names = λ text e settled there. there;
  more = longer_types k.types m.types grow;
  variables = λ t x there. there;
  exceptions = λ t x there. there;
  texts = λ t x there. there;
  bodies = λ t x there. there;
  first_type = refl;
  first_variable = refl;
  modes = refl;
  first_body = refl;
  around = refl;
  outer = refl;
  withs = refl;
  procedure = refl;
})
  where
    grow : AreIn (forms k.types) (forms m.types)
    grow t x there = subst (λ (ts : List TypeForm). slice_get ts t ≡ Some x) (sym same) there

    named_type : (t : ℕ) (name : List ℕ) (o : Option TypeForm) → slice_get k.types t ≡ o → name_of_type o ≡ Some name → name_of_type (slice_get m.types t) ≡ Some name
    named_type t name None there so = absurd (cc so)
    named_type t name (Some form) there so = same_at k.types m.types grow (λ o. name_of_type o) name_bare t form there ∙ so

-- one more pool
pub keeps_pool : (p : PoolForm) (k : Known) → Keeps k (with_pool p k)
keeps_pool p k = keeps_housed k (with_pool p k) refl (λ o t. refl) (λ t n is. is) (λ n x is. get_more k.pools p n x is) refl

-- access types are frozen
pub keeps_frozen : (access : ℕ) (k : Known) → Keeps k (with_frozen access k)
keeps_frozen access k = keeps_housed k (with_frozen access k) refl (λ o t. refl) (λ t n is. is) (λ n x is. is) refl

-- the specifications of the part alone change
pub keeps_specified : (specified : Specifications) (k : Known) → Keeps k (record k { here = record k.here { specified = specified } })
keeps_specified specified k = record {
  types = λ t x is settled. (is, settled);
  accesses = λ t name d is. is;
  overridden = λ o t p is. is;
  overriders = λ o t less. refl;
  placed = λ t n is. is;
  pools = λ t x is. is;
  type_names = λ t name is. is;
  names = λ text e settled is. is;
  more = omega arith;
  variables = λ t x is. is;
  exceptions = λ t x is. is;
  texts = λ t x is. is;
  bodies = λ t x is. is;
  first_type = refl;
  first_variable = refl;
  modes = refl;
  first_body = refl;
  around = refl;
  outer = refl;
  withs = refl;
  procedure = refl;
}

-- which types are limited alone changes
pub keeps_limited : (limited : List ℕ) (k : Known) → Keeps k (record k { limited = limited })
keeps_limited limited k = record {
  types = λ t x is settled. (is, settled);
  accesses = λ t name d is. is;
  overridden = λ o t p is. is;
  overriders = λ o t less. refl;
  placed = λ t n is. is;
  pools = λ t x is. is;
  type_names = λ t name is. is;
  names = λ text e settled is. is;
  more = omega arith;
  variables = λ t x is. is;
  exceptions = λ t x is. is;
  texts = λ t x is. is;
  bodies = λ t x is. is;
  first_type = refl;
  first_variable = refl;
  modes = refl;
  first_body = refl;
  around = refl;
  outer = refl;
  withs = refl;
  procedure = refl;
}

-- an access type that had no pool is on one
pub keeps_placed : (access : TypeNo) (pool : PoolNo) (k : Known) → pool_of k.types access.0 ≡ None → Keeps k (with_placed access pool k)
keeps_placed access pool k none = keeps_housed k (with_placed access pool k) (placed_forms pool.0 k.types access.0) (overrider_placed pool.0 k.types access.0) (pools_placed pool.0 k.types access.0 none) (λ n x is. is) refl
