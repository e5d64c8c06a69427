-- What is known is in order, and what of it stays as more is declared.

use Rattle.std.proofs.Common.{◌≡◌, ◌∙◌, ℕ, ◌<◌, ◌≤◌, true, false, List, [], ◌∷◌, length, refl, sym, ap, subst, arith}
use Rattle.std.specs.Prelude.{Bool, Option, Some, None, bytes_eq}
use Rattle.std.specs.List.{list_all, slice_get}
use Rattle.ada_program.specs.declared.program.ProcedureNo.{ProcedureNo}
use Rattle.ada_program.specs.declared.program.TypeNo.{TypeNo}
use Rattle.ada_program.specs.ProgramForm.{TypeForm, record_of, access_to, object_of, PoolForm, VariableForm, BodyForm}
use Rattle.ada_program.specs.WellFormed as fits
use Rattle.ada_resolve.specs.declared.library.Withs.{Withs}
use Rattle.ada_resolve.specs.declared.primitives.Operation.{Operation}
use Rattle.ada_resolve.specs.declared.scope.Entity.{Entity}
use Rattle.ada_resolve.specs.declared.scope.Entity.TheVariants as entity
use Rattle.ada_resolve.specs.Clauses.{pool_of}
use Rattle.ada_resolve.specs.Known.{Known, Named, Part, named, from_part, named_in, inner_first, outermost, visible, parts, no_body_yet}
use Rattle.ada_resolve.specs.Paths.{name_of_type}
use Rattle.ada_resolve.specs.Primitives.{overrider}
use Rattle.ada_resolve.specs.Resolution.{known_first}
use Rattle.ada_resolve.proofs.WellFormed.Forms.{forms}
pub use Rattle.ada_resolve.proofs.WellFormed.Forms.{longer, longer_types}
use Rattle.ada_resolve.proofs.WellFormed.Laid.{AreRecordsLaid, IsUnused}
use Rattle.ada_resolve.proofs.WellFormed.Operations.{HaveOperations, callables}
use Rattle.ada_resolve.proofs.WellFormed.Names.{PartsFit, first_of_two, laid_in, within_of, outermost_fits}
use Rattle.ada_resolve.proofs.WellFormed.Exceptions.{PartsRaised}

-- what a name of a complete part stands for, whose types have lower numbers than this
abbrev pub IsBefore : ℕ → Entity → Type 0
IsBefore n (entity.Incomplete t) = t.0 < n
IsBefore n (entity.Record t size) = t.0 < n
IsBefore n (entity.Access t) = t.0 < n
IsBefore n (entity.Instance t) = t.0 < n
IsBefore n e = Unit {0}

abbrev pub AllBefore : ℕ → List Named → Type 0
AllBefore n names = (text : List ℕ) (e : Entity) → named text names ≡ Some e → IsBefore n e

-- and so in each part
abbrev pub PartsBefore : ℕ → List Part → Type 0
PartsBefore n [] = Unit {0}
PartsBefore n (part ∷ outer) = AllBefore n part.names × PartsBefore n outer

-- a procedure that may be called has a body that has ended, and a pool is there
abbrev pub IsCalled : (bodies pools : ℕ) → Entity → Type 0
IsCalled n m (entity.Callable p) = p.0 < n
IsCalled n m (entity.Pool p) = p.0 < m
IsCalled n m e = Unit {0}

abbrev pub AllCalled : (bodies pools : ℕ) → List Named → Type 0
AllCalled n m names = (text : List ℕ) (e : Entity) → named text names ≡ Some e → IsCalled n m e

-- and so in each part
abbrev pub PartsCalled : (bodies pools : ℕ) → List Part → Type 0
PartsCalled n m [] = Unit {0}
PartsCalled n m (part ∷ outer) = AllCalled n m part.names × PartsCalled n m outer

-- each body has a variable for each of its formal parameters
abbrev pub AllSized : List BodyForm → Type 0
AllSized [] = Unit {0}
AllSized (b ∷ bs) = (length b.formals ≤ length b.variables) × AllSized bs

-- the types of the innermost part come behind all others; where no body stands before in the part, no component is of an incomplete type of it
pub record IsBounded (k : Known) : Type 0 where
  pub first : k.here.first_type ≤ length k.types
  pub first_variable : k.here.first_variable ≤ length k.variables
  pub modes : length k.here.modes ≤ k.here.first_variable
  pub first_body : k.here.first_body ≤ length k.bodies
  pub open_own : (text : List ℕ) (t : TypeNo) → named text k.here.names ≡ Some (entity.Incomplete t) → k.here.first_type ≤ t.0
  pub open_unused : no_body_yet k ≡ true → (text : List ℕ) (t : TypeNo) → named text k.here.names ≡ Some (entity.Incomplete t) → IsUnused k.types t.0
  pub outer_before : PartsBefore k.here.first_type k.outer

-- what is known is in order, at any place
pub record Sound (k : Known) : Type 0 where
  pub types_fit : list_all (fits.type_fits k.types) k.types ≡ true
  pub operations : HaveOperations k.types (callables k.bodies)
  pub variables_fit : list_all (fits.variable_fits k.types) k.variables ≡ true
  pub names : PartsFit k.types k.variables (parts k)
  pub exceptions : PartsRaised k.exceptions (parts k)
  pub called : PartsCalled (length k.bodies) (length k.pools) (parts k)
  pub housed : list_all (fits.has_known_pool (length k.pools)) k.types ≡ true
  pub controlled : k.controlled ≡ fits.numbered_types k.types
  pub sized : AllSized k.bodies
  pub bounds : IsBounded k

-- the components of the types that are known lie one behind the other
pub sound_laid : (k : Known) → Sound k → AreRecordsLaid k.types
sound_laid k s = laid_in k.types k.variables (parts k) s.names

-- no name of the innermost part stands for an incomplete type
abbrev pub Complete : Known → Type 0
Complete k = (text : List ℕ) (t : TypeNo) → named text k.here.names ≡ Some (entity.Incomplete t) → ⊥

-- tables only grow: what is there stays, but that types may get pools and operations; the types of the parts around get no operations
pub record Grows (k m : Known) : Type 0 where
  pub types : (t : ℕ) (form : TypeForm) → slice_get (forms k.types) t ≡ Some form → slice_get (forms m.types) t ≡ Some form
  pub overridden : (o : Operation) (t : ℕ) (p : ProcedureNo) → overrider o k.types t ≡ Some p → overrider o m.types t ≡ Some p
  pub overriders : (o : Operation) (t : ℕ) → t < k.here.first_type → overrider o m.types t ≡ overrider o k.types t
  pub first_type : k.here.first_type ≤ m.here.first_type
  pub placed : (t n : ℕ) → pool_of k.types t ≡ Some n → pool_of m.types t ≡ Some n
  pub pools : (n : ℕ) (p : PoolForm) → slice_get k.pools n ≡ Some p → slice_get m.pools n ≡ Some p
  pub variables : (x : ℕ) (v : VariableForm) → slice_get k.variables x ≡ Some v → slice_get m.variables x ≡ Some v
  pub exceptions : (n : ℕ) (name : List ℕ) → slice_get k.exceptions n ≡ Some name → slice_get m.exceptions n ≡ Some name
  pub texts : (n : ℕ) (text : List ℕ) → slice_get k.texts n ≡ Some text → slice_get m.texts n ≡ Some text
  pub bodies : (n : ℕ) (b : BodyForm) → slice_get k.bodies n ≡ Some b → slice_get m.bodies n ≡ Some b

-- no name of the innermost part stands for this type, incomplete; behind a body no type is completed
abbrev pub IsSettled : Known → ℕ → Type 0
IsSettled k t = no_body_yet k ≡ true → (text : List ℕ) (u : TypeNo) → named text k.here.names ≡ Some (entity.Incomplete u) → u.0 ≡ t → ⊥

-- a name that stands for the same from now on
abbrev pub IsSettledEntity : Entity → Type 0
IsSettledEntity (entity.Incomplete t) = ⊥
IsSettledEntity e = Unit {0}

-- what stays within the declarations of a part: a type but for its pool and its operations, unless a name of the part stands for it, incomplete; each
-- access type but for its pool, and a pool that it has; what overrides an operation, and, of a type of the parts around, which operations are inherited; the
-- name of each type; what a name stands for, unless that is incomplete; all pools, variables, exceptions and texts
pub record Keeps (k m : Known) : Type 0 where
  pub types : (t : ℕ) (form : TypeForm) → slice_get (forms k.types) t ≡ Some form → IsSettled k t → (slice_get (forms m.types) t ≡ Some form) × IsSettled m t
  pub accesses : (t : ℕ) (name : List ℕ) (d : ℕ) → slice_get (forms k.types) t ≡ Some (access_to name d None) → slice_get (forms m.types) t ≡ Some (access_to name d None)
  pub overridden : (o : Operation) (t : ℕ) (p : ProcedureNo) → overrider o k.types t ≡ Some p → overrider o m.types t ≡ Some p
  pub overriders : (o : Operation) (t : ℕ) → t < k.here.first_type → overrider o m.types t ≡ overrider o k.types t
  pub placed : (t n : ℕ) → pool_of k.types t ≡ Some n → pool_of m.types t ≡ Some n
  pub pools : (n : ℕ) (p : PoolForm) → slice_get k.pools n ≡ Some p → slice_get m.pools n ≡ Some p
  pub type_names : (t : ℕ) (name : List ℕ) → name_of_type (slice_get k.types t) ≡ Some name → name_of_type (slice_get m.types t) ≡ Some name
  pub names : (text : List ℕ) (e : Entity) → IsSettledEntity e → named text k.here.names ≡ Some e → named text m.here.names ≡ Some e
  pub more : length k.types ≤ length m.types
  pub variables : (x : ℕ) (v : VariableForm) → slice_get k.variables x ≡ Some v → slice_get m.variables x ≡ Some v
  pub exceptions : (n : ℕ) (name : List ℕ) → slice_get k.exceptions n ≡ Some name → slice_get m.exceptions n ≡ Some name
  pub texts : (n : ℕ) (text : List ℕ) → slice_get k.texts n ≡ Some text → slice_get m.texts n ≡ Some text
  pub bodies : (n : ℕ) (b : BodyForm) → slice_get k.bodies n ≡ Some b → slice_get m.bodies n ≡ Some b
  pub first_type : m.here.first_type ≡ k.here.first_type
  pub first_variable : m.here.first_variable ≡ k.here.first_variable
  pub modes : m.here.modes ≡ k.here.modes
  pub first_body : m.here.first_body ≡ k.here.first_body
  pub around : m.here.around ≡ k.here.around
  pub outer : m.outer ≡ k.outer
  pub withs : m.withs ≡ k.withs
  pub procedure : m.procedure ≡ k.procedure

-- what statements leave: the parts as they were, and tables that only grow
pub record Stays (k m : Known) : Type 0 where
  pub sound : Sound m
  pub complete : Complete m
  pub here : m.here ≡ k.here
  pub outer : m.outer ≡ k.outer
  pub withs : m.withs ≡ k.withs
  pub procedure : m.procedure ≡ k.procedure
  pub grows : Grows k m

-- a place in a part right within the innermost part of another place, behind it, and in the same body
pub record Inside (k m : Known) : Type 0 where
  pub sound : Sound m
  pub around : m.here.around ≡ None
  pub outer : m.outer ≡ parts k
  pub withs : m.withs ≡ k.withs
  pub procedure : m.procedure ≡ k.procedure
  pub grows : Grows k m

pub more_types : (k m : Known) → Grows k m → length k.types ≤ length m.types
more_types k m g = longer_types k.types m.types g.types

pub more_pools : (k m : Known) → Grows k m → length k.pools ≤ length m.pools
more_pools k m g = longer k.pools m.pools g.pools

pub more_bodies : (k m : Known) → Grows k m → length k.bodies ≤ length m.bodies
more_bodies k m g = longer k.bodies m.bodies g.bodies

pub more_variables : (k m : Known) → Grows k m → length k.variables ≤ length m.variables
more_variables k m g = longer k.variables m.variables g.variables

pub grows_same : (k : Known) → Grows k k
grows_same k = record { types = λ t x is. is; overridden = λ o t p is. is; overriders = λ o t less. refl; first_type = omega arith; placed = λ t n is. is; pools = λ t x is. is; variables = λ t x is. is; exceptions = λ t x is. is; texts = λ t x is. is; bodies = λ t x is. is }

pub grows_on : (k m z : Known) → Grows k m → Grows m z → Grows k z
grows_on k m z f g = record {
  types = λ t x is. g.types t x (f.types t x is);
  overridden = λ o t p is. g.overridden o t p (f.overridden o t p is);
  overriders = λ o t less. let before = f.first_type in g.overriders o t (omega (arith, less, before)) ∙ f.overriders o t less;
  first_type = let before = f.first_type in let behind = g.first_type in omega (arith, before, behind);
  placed = λ t n is. g.placed t n (f.placed t n is);
  pools = λ t x is. g.pools t x (f.pools t x is);
  variables = λ t x is. g.variables t x (f.variables t x is);
  exceptions = λ t x is. g.exceptions t x (f.exceptions t x is);
  texts = λ t x is. g.texts t x (f.texts t x is);
  bodies = λ t x is. g.bodies t x (f.bodies t x is);
}

pub keeps_same : (k : Known) → Keeps k k
keeps_same k = record {
  types = λ t x is settled. (is, settled);
  accesses = λ t name d is. is;
  overridden = λ o t p is. is;
  overriders = λ o t less. refl;
  placed = λ t n is. is;
  pools = λ t x is. is;
  type_names = λ t name is. is;
  names = λ text e settled is. is;
  more = omega arith;
  variables = λ t x is. is;
  exceptions = λ t x is. is;
  texts = λ t x is. is;
  bodies = λ t x is. is;
  first_type = refl;
  first_variable = refl;
  modes = refl;
  first_body = refl;
  around = refl;
  outer = refl;
  withs = refl;
  procedure = refl;
}

pub keeps_on : (k m z : Known) → Keeps k m → Keeps m z → Keeps k z
keeps_on k m z f g = record {
  types = λ t x is settled. let so = f.types t x is settled in g.types t x so.0 so.1;
  accesses = λ t name d is. g.accesses t name d (f.accesses t name d is);
  overridden = λ o t p is. g.overridden o t p (f.overridden o t p is);
  overriders = λ o t less. g.overriders o t (subst (λ (n : ℕ). t < n) (sym f.first_type) less) ∙ f.overriders o t less;
  placed = λ t n is. g.placed t n (f.placed t n is);
  pools = λ t x is. g.pools t x (f.pools t x is);
  type_names = λ t name is. g.type_names t name (f.type_names t name is);
  names = λ text e settled is. g.names text e settled (f.names text e settled is);
  more = let a = f.more in let b = g.more in omega arith;
  variables = λ t x is. g.variables t x (f.variables t x is);
  exceptions = λ t x is. g.exceptions t x (f.exceptions t x is);
  texts = λ t x is. g.texts t x (f.texts t x is);
  bodies = λ t x is. g.bodies t x (f.bodies t x is);
  first_type = g.first_type ∙ f.first_type;
  first_variable = g.first_variable ∙ f.first_variable;
  modes = g.modes ∙ f.modes;
  first_body = g.first_body ∙ f.first_body;
  around = g.around ∙ f.around;
  outer = g.outer ∙ f.outer;
  withs = g.withs ∙ f.withs;
  procedure = g.procedure ∙ f.procedure;
}

pub stays_same : (k : Known) → Sound k → Complete k → Stays k k
stays_same k s c = record { sound = s; complete = c; here = refl; outer = refl; withs = refl; procedure = refl; grows = grows_same k }

pub stays_on : (k m z : Known) → Stays k m → Stays m z → Stays k z
stays_on k m z f g = record {
  sound = g.sound;
  complete = g.complete;
  here = g.here ∙ f.here;
  outer = g.outer ∙ f.outer;
  withs = g.withs ∙ f.withs;
  procedure = g.procedure ∙ f.procedure;
  grows = grows_on k m z f.grows g.grows;
}

-- where no type is incomplete, all types stay
pub complete_grows : (k m : Known) → Complete k → Keeps k m → Grows k m
complete_grows k m c f = record {
  types = λ t x is. (f.types t x is (λ none text u there same. c text u there)).0;
  overridden = f.overridden;
  overriders = f.overriders;
  first_type = let same = f.first_type in omega (arith, same);
  placed = f.placed;
  pools = f.pools;
  variables = f.variables;
  exceptions = f.exceptions;
  texts = f.texts;
  bodies = f.bodies;
}

-- a type of a part around is settled
pub outer_settled : (k : Known) (t : ℕ) → Sound k → t < k.here.first_type → IsSettled k t
outer_settled k t s before none text u there same = let own = s.bounds.open_own text u there in let no : ⊥ = omega (arith, own, same, before) in no

-- so is one that a name of the part stands for, complete
pub record_settled : (k : Known) (text : List ℕ) (t : TypeNo) (size : ℕ) → Sound k → named text k.here.names ≡ Some (entity.Record t size) → IsSettled k t.0
record_settled k text t size s is none other u there same =
    let mine = s.names.0 text (entity.Record t size) is in
    let both_forms : Some (record_of text mine.0 mine.1 mine.2) ≡ Some (record_of other [] [] None) = sym mine.3 ∙ (ap (λ n. slice_get k.types n) (sym same) ∙ s.names.0 other (entity.Incomplete u) there) in
    let text_is : text ≡ other = cc both_forms in
    two_of (subst (λ (n : List ℕ). named n k.here.names ≡ Some (entity.Record t size)) text_is is)
  where
    two_of : named other k.here.names ≡ Some (entity.Record t size) → ⊥
    two_of so = let both_names : Some (entity.Record t size) ≡ Some (entity.Incomplete u) = sym so ∙ there in cc both_names

-- what a name of the parts around stands for
before_in : (n : ℕ) (ps : List Part) (text : List ℕ) (e : Entity) → PartsBefore n ps → named_in text ps ≡ Some e → IsBefore n e
before_in n [] text e b is = absurd (cc is)
before_in n (p ∷ ps) text e b is =
    first_of_two (IsBefore n) (named text p.names) (from_part p.around (named_in text ps)) e (b.0 text)
    (λ x there. within_of (IsBefore n) p.around (named_in text ps) x (λ kind r. tt) (λ y. before_in n ps text y b.1) there) is

-- so is one that a name stands for, complete
pub visible_settled : (k : Known) (text : List ℕ) (t : TypeNo) (size : ℕ) → Sound k → visible k text ≡ Some (entity.Record t size) → IsSettled k t.0
unfolding visible
visible_settled k text t size s is = by_own (named_in text (parts k)) (bytes_eq text k.procedure) refl is
  where
    SettledEntity : Entity → Type 0
    SettledEntity x = x ≡ entity.Record t size → IsSettled k t.0

    by_part : (x : Entity) → named_in text (parts k) ≡ Some x → SettledEntity x
    by_part x there = first_of_two SettledEntity (named text k.here.names) (from_part k.here.around (named_in text k.outer)) x
        (λ y own same. record_settled k text t size s (own ∙ ap (λ z. Some z) same))
        (λ y around same. outer_settled k t.0 s
        (subst (IsBefore k.here.first_type) same (within_of (IsBefore k.here.first_type) k.here.around (named_in text k.outer) y (λ kind r. tt)
        (λ z. before_in k.here.first_type k.outer text z s.bounds.outer_before) around))) there

    by_own : (own : Option Entity) (b : Bool) → named_in text (parts k) ≡ own → inner_first own b (outermost k.withs text) ≡ Some (entity.Record t size) → IsSettled k t.0
    by_own (Some x) b there e = let same : x ≡ entity.Record t size = cc e in by_part x there same
    by_own None true there e = absurd (cc e)
    by_own None false there e = let no = outermost_fits [] [] k.withs text (entity.Record t size) e in absurd (cc (no.3))

-- and one that is no record type
pub known_settled : (k : Known) (t : ℕ) (name : List ℕ) (d : ℕ) (pool : Option ℕ) → Sound k → slice_get k.types t ≡ Some (access_to name d pool) → IsSettled k t
known_settled k t name d pool s is none other u there same =
    let both_forms : Some (access_to name d pool) ≡ Some (record_of other [] [] None) = sym is ∙ (ap (λ n. slice_get k.types n) (sym same) ∙ s.names.0 other (entity.Incomplete u) there) in cc both_forms

pub object_settled : (k : Known) (t r : ℕ) → Sound k → slice_get k.types t ≡ Some (object_of r) → IsSettled k t
object_settled k t r s is none other u there same =
    let both_forms : Some (object_of r) ≡ Some (record_of other [] [] None) = sym is ∙ (ap (λ n. slice_get k.types n) (sym same) ∙ s.names.0 other (entity.Incomplete u) there) in cc both_forms

-- nothing is declared at first
pub first_sound : (withs : Withs) (procedure : List ℕ) → Sound (known_first withs procedure)
first_sound withs procedure = record {
  types_fit = refl;
  operations = λ t. refl;
  variables_fit = refl;
  names = (λ t x e. absurd (cc e), (λ t form e. absurd (cc e), refl));
  exceptions = (λ t x e. absurd (cc e), tt);
  called = (λ t x e. absurd (cc e), tt);
  housed = refl;
  controlled = refl;
  sized = tt;
  bounds = record { first = omega arith; first_variable = omega arith; modes = omega arith; first_body = omega arith; open_own = λ text t e. absurd (cc e); open_unused = λ none text t e. absurd (cc e); outer_before = tt };
}

pub first_complete : (withs : Withs) (procedure : List ℕ) → Complete (known_first withs procedure)
first_complete withs procedure text t e = absurd (cc e)
