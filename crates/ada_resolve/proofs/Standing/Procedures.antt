-- Bodies of procedures: what is known is in order where one begins, and behind it.

use Rattle.std.proofs.Common.{◌≡◌, ◌∙◌, ℕ, ◌+◌, ◌<◌, ◌≤◌, Bool, true, false, cond, List, [], ◌∷◌, ◌++◌, inl, length, append-nil, append_assoc, length-append, refl, sym, ap, subst, zero, suc, arith}
use Rattle.std.specs.Prelude.{Option, Some, None}
use Rattle.std.specs.List.{list_all, slice_get}
use Rattle.std.proofs.lemmas.Bool.{eqb-true}
use Rattle.ada_text.specs.declared.spot.Spot.{Spot}
use Rattle.ada_program.specs.declared.program.FormalMode.{FormalMode}
use Rattle.ada_program.specs.declared.program.FormalMode.TheVariants.{In, InOut}
use Rattle.ada_program.specs.declared.program.ProcedureNo.{ProcedureNo}
use Rattle.ada_program.specs.declared.program.TypeNo.{TypeNo}
use Rattle.ada_program.specs.declared.program.VariableKind.{VariableKind}
use Rattle.ada_program.specs.declared.program.VariableNo.{VariableNo}
use Rattle.ada_program.specs.Form.{StmtsForm, HandlersForm}
use Rattle.ada_program.specs.ProgramForm.{TypeForm, access_to, object_of, PoolForm, VariableForm, BodyForm}
use Rattle.ada_program.specs.WellFormed as fits
use Rattle.ada_tree.specs.Declarations.{FormalTree, HeadTree}
use Rattle.ada_tree.specs.Names.{Ident}
use Rattle.ada_resolve.specs.declared.scope.Entity.{Entity}
use Rattle.ada_resolve.specs.declared.scope.Entity.TheVariants as entity
use Rattle.ada_resolve.specs.declared.primitives.Operation.{Operation}
use Rattle.ada_resolve.specs.Clauses.{pool_of}
use Rattle.ada_resolve.specs.Known.{Known, Named, entered, first_named, named, next_procedure, no_body_yet, parts, visible}
use Rattle.ada_resolve.specs.Paths.{name_of_type}
use Rattle.ada_resolve.specs.Primitives.{answered, declared_unless, entered_unless, operand_of, operation_named, overridden_if, overrider}
use Rattle.ada_resolve.specs.Procedures.{Formals, keeps_its_operand, no_formals, formal_type, formal_types, formal_kind, formal_mode, formal_entity, known_by, with_next, with_formal, with_formals, with_body, behind_head, variables_around, body_of, closed, with_procedure, body_ended}
use Rattle.ada_resolve.proofs.Parts.{left_parts}
use Rattle.ada_resolve.proofs.WellFormed.Exceptions.{RaisedFits}
use Rattle.ada_resolve.proofs.Operating.{inherits_none, overrider_in}
use Rattle.ada_resolve.proofs.WellFormed.Forms.{AreIn, forms, forms_in, same_at}
use Rattle.ada_resolve.proofs.WellFormed.Names.{EntityFits, variables_behind, PartsFit, all_entered, named_entered, other_text, visible_fits}
use Rattle.ada_resolve.proofs.WellFormed.Operations.{callables, callables_in, have_stays, profile_at, profile_got}
use Rattle.ada_resolve.proofs.WellFormed.Overridden.{if_forms, if_housed, if_operations, if_pool, operand_operates, overridden_other}
use Rattle.ada_resolve.proofs.WellFormed.Placed.{grown, pools_in}
use Rattle.ada_resolve.proofs.WellFormed.Tables as tables
use Rattle.ada_resolve.proofs.WellFormed.Tables.{all_get, all_more, all_weaker, both_parts, first_part, get_more, get_last, get_within, keeps_more, none_past, variable_kept}
pub use Rattle.ada_resolve.proofs.WellFormed.Tables.{types_keep}
use Rattle.ada_resolve.proofs.Standing.Declared.{retyped_sound, specified_sound}
use Rattle.ada_resolve.proofs.Standing.Housed.{called_later}
use Rattle.ada_resolve.proofs.Standing.Order.{IsCalled, AllSized, Sound, Complete, IsSettled, Keeps, longer, longer_types, visible_settled}
use Rattle.ada_resolve.proofs.WellFormed.Types.{record_visible}
use Rattle.ada_resolve.proofs.Standing.Types.{name_sound, object_type_sound}
use Rattle.ada_resolve.proofs.Standing.Kept.{old_name, name_bare}
use Rattle.ada_resolve.proofs.Standing.Inner.{own_before, parts_before, outers_fit, outers_raised, outers_called}

-- a formal parameter is there, a constant or a variable
abbrev pub IsFormalIn : List VariableForm → List ℕ → VariableKind → ℕ → Type 0
IsFormalIn variables text kind x =
    (spot : Spot) × (slice_get variables x ≡ Some (record { name = text; spot = spot; kind = kind; borrows = false }))

abbrev pub IsFormal : List VariableForm → List ℕ → Entity → Type 0
IsFormal variables text (entity.Parameter x kind) = IsFormalIn variables text kind x.0
IsFormal variables text (entity.Variable x kind) = IsFormalIn variables text kind x.0
IsFormal variables text e = ⊥

-- the formals are in order
pub record FormalsSound (f : Formals) : Type 0 where
  pub names : (text : List ℕ) (e : Entity) → named text f.names ≡ Some e → IsFormal f.variables text e
  pub modes : length f.modes ≡ length f.variables

-- more of a list
pub get_front : {X : Type 0} (xs ys : List X) (i : ℕ) (x : X) → slice_get xs i ≡ Some x → slice_get (xs ++ ys) i ≡ Some x
get_front [] ys i x e = absurd (cc e)
get_front (z ∷ xs) ys zero x e = e
get_front (z ∷ xs) ys (suc i) x e = get_front xs ys i x e

-- and fit these types
abbrev pub AllFormalsFit : List TypeForm → Formals → Type 0
AllFormalsFit types f = list_all (fits.variable_fits types) f.variables ≡ true

formal_more : (variables : List VariableForm) (v : VariableForm) (text : List ℕ) (e : Entity) → IsFormal variables text e → IsFormal (variables ++ v ∷ []) text e
formal_more variables v text (entity.Parameter x kind) f = (f.0, get_more variables v x.0 _ f.1)
formal_more variables v text (entity.Variable x kind) f = (f.0, get_more variables v x.0 _ f.1)
formal_more variables v text e f = absurd f

-- what a formal of a mode is
formal_is : (mode : FormalMode) (variables : List VariableForm) (text : List ℕ) (x : VariableNo) (kind : VariableKind) → IsFormalIn variables text kind x.0 → IsFormal variables text (formal_entity mode x kind)
formal_is In variables text x kind f = f
formal_is InOut variables text x kind f = f

next_sound : (name : Ident) (mode : FormalMode) (kind : VariableKind) (types : List TypeForm) (f : Formals) → FormalsSound f → FormalsSound (with_next name mode kind types f)
next_sound name mode kind types f s =
    let v : VariableForm = record { name = name.text; spot = name.spot; kind = kind; borrows = false } in
    let x : VariableNo = record { 0 = length f.variables } in
    record {
      names = all_entered (IsFormal (f.variables ++ v ∷ [])) f.names name.text (formal_entity mode x kind)
          (formal_is mode (f.variables ++ v ∷ []) name.text x kind (name.spot, get_last f.variables v))
          (λ text e ne is. formal_more f.variables v text e (s.names text e is));
      modes =
          let same = s.modes in
          let modes = length-append f.modes (mode ∷ []) in
          let variables = length-append f.variables (v ∷ []) in
          omega (arith, same, modes, variables);
    }

pub formal_sound : (k : Known) (f : FormalTree) (before : Formals) → FormalsSound before → FormalsSound (with_formal k f before)
unfolding with_formal
formal_sound k f before s =
    let o = formal_type k before f.type_name in
    next_sound f.name (formal_mode f.input f.output) (formal_kind (known_by k before) o) (formal_types o) before s

formals_sound : (k : Known) (fs : List FormalTree) (before : Formals) → FormalsSound before → FormalsSound (with_formals k fs before)
formals_sound k [] before s = s
formals_sound k (f ∷ fs) before s = formals_sound k fs (with_formal k f before) (formal_sound k f before s)

pub no_formal : FormalsSound no_formals
no_formal = record { names = λ text e is. absurd (cc is); modes = refl }

pub head_formals : (k : Known) (fs : List FormalTree) → FormalsSound (with_formals k fs no_formals)
head_formals k fs = formals_sound k fs no_formals no_formal

-- what is known once these types are there too
abbrev pub typed : List TypeForm → Known → Known
typed types k = record k { types = k.types ++ types }

-- the type that a formal's type's name stands for, where it is one, is there; a record type is complete
abbrev IsFound : Known → Option Entity → Type 0
IsFound m (Some (entity.Record t size)) = (fits.is_record m.types t.0 ≡ true) × IsSettled m t.0
IsFound m (Some (entity.Access t)) = fits.is_access m.types t.0 ≡ true
IsFound m (Some e) = Unit {0}
IsFound m None = Unit {0}

formal_found : (m : Known) (variables : List VariableForm) (text : List ℕ) (e : Entity) → IsFormal variables text e → IsFound m (Some e)
formal_found m variables text (entity.Parameter x kind) f = tt
formal_found m variables text (entity.Variable x kind) f = tt
formal_found m variables text e f = absurd f

entity_found : (m : Known) (text : List ℕ) (e : Entity) → Sound m → visible m text ≡ Some e → EntityFits m.types m.variables text e → IsFound m (Some e)
entity_found m text (entity.Record t size) w is f = (record_visible m w.names text t size is, visible_settled m text t size w is)
entity_found m text (entity.Access t) w is f = rw f.2 refl
entity_found m text e w is f = tt

visible_typed : (types : List TypeForm) (k : Known) (text : List ℕ) → visible (typed types k) text ≡ visible k text
unfolding visible
visible_typed types k text = refl

type_found : (k : Known) (before : Formals) (name : Ident) → Sound (typed before.types k) → FormalsSound before → IsFound (typed before.types k) (formal_type k before name)
type_found k before name w s = by_own (named name.text before.names) refl
  where
    m : Known
    m = typed before.types k

    by_around : (o : Option Entity) → visible k name.text ≡ o → IsFound m o
    by_around None is = tt
    by_around (Some e) is =
        let there = visible_typed before.types k name.text ∙ is in
        entity_found m name.text e w there (visible_fits m w.names name.text e there)

    by_own : (o : Option Entity) → named name.text before.names ≡ o → IsFound m (first_named o (visible k name.text))
    by_own None is = by_around (visible k name.text) refl
    by_own (Some e) is = formal_found m before.variables name.text e (s.names name.text e is)

-- one more type by which a formal is known
same_types : (types : List TypeForm) → types ++ [] ≡ types
same_types types = append-nil types

own_type_sound : (m : Known) (o : Option Entity) → Sound m → IsFound m o → Sound (typed (formal_types o) m)
own_type_sound m (Some (entity.Record t size)) w f = object_type_sound m t.0 w f.0 f.1
own_type_sound m (Some e) w f = subst (λ (ts : List TypeForm). Sound (record m { types = ts })) (sym (same_types m.types)) w
own_type_sound m None w f = subst (λ (ts : List TypeForm). Sound (record m { types = ts })) (sym (same_types m.types)) w

own_type_keeps : (types : List TypeForm) (o : Option Entity) → tables.Keeps types (types ++ formal_types o)
own_type_keeps types (Some (entity.Record t size)) = keeps_more types (object_of t.0)
own_type_keeps types (Some e) = subst (λ (ts : List TypeForm). tables.Keeps types ts) (sym (same_types types)) (λ t is. is, λ t is. is)
own_type_keeps types None = subst (λ (ts : List TypeForm). tables.Keeps types ts) (sym (same_types types)) (λ t is. is, λ t is. is)

own_kind_fits : (m : Known) (own : TypeNo) (o : Option Entity) → own.0 ≡ length m.types → IsFound m o → fits.variable_kind_fits (m.types ++ formal_types o) (formal_kind own o) ≡ true
own_kind_fits m own (Some (entity.Record t size)) same f = rw (same, get_last m.types (object_of t.0)) refl
own_kind_fits m own (Some (entity.Access t)) same f = rw (same_types m.types) f
own_kind_fits m own (Some entity.Boolean) same f = refl
own_kind_fits m own (Some e) same f = refl
own_kind_fits m own None same f = refl

-- these types are those by which record objects and formals are known
abbrev pub AllObjects : List TypeForm → Type 0
AllObjects [] = Unit {0}
AllObjects (object_of r ∷ types) = AllObjects types
AllObjects (form ∷ types) = ⊥

objects_more : (types more : List TypeForm) → AllObjects types → AllObjects more → AllObjects (types ++ more)
objects_more [] more w v = v
objects_more (object_of r ∷ types) more w v = objects_more types more w v
objects_more (form ∷ types) more w v = absurd w

own_objects : (o : Option Entity) → AllObjects (formal_types o)
own_objects (Some (entity.Record t size)) = tt
own_objects (Some e) = tt
own_objects None = tt

formal_objects : (k : Known) (f : FormalTree) (before : Formals) → AllObjects before.types → AllObjects (with_formal k f before).types
unfolding with_formal
formal_objects k f before w =
    let o = formal_type k before f.type_name in
    objects_more before.types (formal_types o) w (own_objects o)

formals_objects : (k : Known) (fs : List FormalTree) (before : Formals) → AllObjects before.types → AllObjects (with_formals k fs before).types
formals_objects k [] before w = w
formals_objects k (f ∷ fs) before w = formals_objects k fs (with_formal k f before) (formal_objects k f before w)

pub head_objects : (k : Known) (fs : List FormalTree) → AllObjects (with_formals k fs no_formals).types
head_objects k fs = formals_objects k fs no_formals tt

-- the formals fit, with the types by which they are known
pub record FormalsFit (k : Known) (f : Formals) : Type 0 where
  pub sound : Sound (typed f.types k)
  pub fit : AllFormalsFit (k.types ++ f.types) f

formal_variable_fits : (k : Known) (f : FormalTree) (before : Formals) → FormalsSound before → FormalsFit k before → FormalsFit k (with_formal k f before)
unfolding with_formal
formal_variable_fits k f before s w =
    let o = formal_type k before f.type_name in
    let own = known_by k before in
    let m = typed before.types k in
    let kind = formal_kind own o in
    let types = m.types ++ formal_types o in
    let v : VariableForm = record { name = f.name.text; spot = f.name.spot; kind = kind; borrows = false } in
    let found : IsFound m o = type_found k before f.type_name w.sound s in
    let same : types ≡ k.types ++ (before.types ++ formal_types o) = append_assoc k.types before.types (formal_types o) in
    let old = all_weaker (fits.variable_fits m.types) (fits.variable_fits types) (variable_kept m.types types (own_type_keeps m.types o)) before.variables w.fit in
    let new = own_kind_fits m own o (sym (length-append k.types before.types)) found in
    let fit = all_more (fits.variable_fits types) before.variables (v ∷ []) old
    (both_parts (fits.variable_fits types v) true (both_parts (fits.variable_kind_fits types kind) true new refl) refl) in
    record {
      sound = subst (λ (ts : List TypeForm). Sound (record k { types = ts })) same (own_type_sound m o w.sound found);
      fit = subst (λ (ts : List TypeForm). list_all (fits.variable_fits ts) (before.variables ++ v ∷ []) ≡ true) same fit;
    }

formals_fit : (k : Known) (fs : List FormalTree) (before : Formals) → FormalsSound before → FormalsFit k before → FormalsFit k (with_formals k fs before)
formals_fit k [] before s fit = fit
formals_fit k (f ∷ fs) before s fit = formals_fit k fs (with_formal k f before) (formal_sound k f before s) (formal_variable_fits k f before s fit)

pub head_fit : (k : Known) (fs : List FormalTree) → Sound k → FormalsFit k (with_formals k fs no_formals)
head_fit k fs w =
    formals_fit k fs no_formals no_formal
    (record { sound = subst (λ (ts : List TypeForm). Sound (record k { types = ts })) (sym (same_types k.types)) w; fit = refl })

-- what a formal holds fits, as all of them do
held_fits : (types : List TypeForm) (variables : List VariableForm) (text : List ℕ) (x : ℕ) (kind : VariableKind) → list_all (fits.variable_fits types) variables ≡ true → IsFormalIn variables text kind x → fits.variable_kind_fits types kind ≡ true
held_fits types variables text x kind fit f =
    first_part (fits.variable_kind_fits types kind) true (all_get (fits.variable_fits types) variables x (record { name = text; spot = f.0; kind = kind; borrows = false }) fit f.1)

formal_fits : (types : List TypeForm) (variables : List VariableForm) (text : List ℕ) (e : Entity) → list_all (fits.variable_fits types) variables ≡ true → IsFormal variables text e → EntityFits types variables text e
formal_fits types variables text (entity.Parameter x kind) fit f = (f, held_fits types variables text x.0 kind fit f)
formal_fits types variables text (entity.Variable x kind) fit f = ((f.0, false, f.1), held_fits types variables text x.0 kind fit f)
formal_fits types variables text e fit f = absurd f

formal_raised : (exceptions : List (List ℕ)) (variables : List VariableForm) (text : List ℕ) (e : Entity) → IsFormal variables text e → RaisedFits exceptions text e
formal_raised exceptions variables text (entity.Parameter x kind) f = tt
formal_raised exceptions variables text (entity.Variable x kind) f = tt
formal_raised exceptions variables text e f = absurd f

formal_called : (n m : ℕ) (variables : List VariableForm) (text : List ℕ) (e : Entity) → IsFormal variables text e → IsCalled n m e
formal_called n m variables text (entity.Parameter x kind) f = tt
formal_called n m variables text (entity.Variable x kind) f = tt
formal_called n m variables text e f = absurd f

-- the body begins
with_body_sound : (k : Known) (b : Bool) (f : Formals) → Sound (typed f.types k) → FormalsSound f → AllFormalsFit (k.types ++ f.types) f → Sound (with_body b f k)
with_body_sound k b f s g fit =
    let types = k.types ++ f.types in
    record {
      types_fit = s.types_fit;
      operations = s.operations;
      variables_fit = fit;
      names = (λ text e is. formal_fits types f.variables text e fit (g.names text e is), s.names);
      exceptions = (λ text e is. formal_raised k.exceptions f.variables text e (g.names text e is), s.exceptions);
      called = (λ text e is. formal_called (length k.bodies) (length k.pools) f.variables text e (g.names text e is), s.called);
      housed = s.housed;
      controlled = s.controlled;
      sized = s.sized;
      bounds = record {
        first = omega arith;
        first_variable = omega arith;
        modes = let same = g.modes in omega (arith, same);
        first_body = omega arith;
        open_own = λ text t is. absurd (g.names text (entity.Incomplete t) is);
        open_unused = λ none text t is. absurd (g.names text (entity.Incomplete t) is);
        outer_before = (
          λ text e is. own_before (typed f.types k) text e is (s.names.0 text e is),
          parts_before k.here.first_type (length types) k.outer s.bounds.first s.bounds.outer_before,
        );
      };
    }

-- what is known around a body
abbrev pub around_body : Known → HeadTree → Known
around_body k head = declared_unless (operation_named head.name.text) k head.name.text entity.Procedure

around_by : (k : Known) (text : List ℕ) (o : Option Operation) → Sound k → Sound (declared_unless o k text entity.Procedure)
around_by k text None s = name_sound k text entity.Procedure s tt tt tt tt (λ none. tt)
around_by k text (Some o) s = s

pub around_sound : (k : Known) (head : HeadTree) → Sound k → Sound (around_body k head)
around_sound k head s = around_by k head.name.text (operation_named head.name.text) s

pub head_sound : (k : Known) (head : HeadTree) → Sound k → Sound (behind_head k head)
unfolding behind_head
head_sound k head s =
    let f = with_formals k head.formals no_formals in
    let fit = head_fit k head.formals s in
    with_body_sound (around_body k head) (keeps_its_operand (operation_named head.name.text) k f) f (around_sound (typed f.types k) head fit.sound) (head_formals k head.formals) fit.fit

pub head_complete : (k : Known) (head : HeadTree) → Complete (behind_head k head)
unfolding behind_head
head_complete k head text t is = (head_formals k head.formals).names text (entity.Incomplete t) is

-- a place in a body that stands at another place: in it, or behind its declarations; no type that is known there gets an operation
pub record InBody (k m : Known) : Type 0 where
  pub sound : Sound m
  pub around : m.here.around ≡ Some k.variables
  pub outer : m.outer ≡ parts k
  pub withs : m.withs ≡ k.withs
  pub procedure : m.procedure ≡ k.procedure
  pub types : (t : ℕ) (form : TypeForm) → slice_get (forms k.types) t ≡ Some form → slice_get (forms m.types) t ≡ Some form
  pub overriders : (o : Operation) (t : ℕ) → t < length k.types → overrider o m.types t ≡ overrider o k.types t
  pub first_type : length k.types ≤ m.here.first_type
  pub placed : (t n : ℕ) → pool_of k.types t ≡ Some n → pool_of m.types t ≡ Some n
  pub pools : (n : ℕ) (p : PoolForm) → slice_get k.pools n ≡ Some p → slice_get m.pools n ≡ Some p
  pub exceptions : (n : ℕ) (name : List ℕ) → slice_get k.exceptions n ≡ Some name → slice_get m.exceptions n ≡ Some name
  pub texts : (n : ℕ) (text : List ℕ) → slice_get k.texts n ≡ Some text → slice_get m.texts n ≡ Some text
  pub bodies : (n : ℕ) (b : BodyForm) → slice_get k.bodies n ≡ Some b → slice_get m.bodies n ≡ Some b

-- types that are added leave the operations of those before them
pub overriders_front : (types more : List TypeForm) (o : Operation) (t : ℕ) → t < length types → overrider o (types ++ more) t ≡ overrider o types t
unfolding overrider
overriders_front types more o t less = by_form (slice_get types t) refl
  where
    by_form : (found : Option TypeForm) → slice_get types t ≡ found → overrider_in o (slice_get (types ++ more) t) ≡ overrider_in o (slice_get types t)
    by_form None is = let past = none_past types t is in absurd (omega (arith, less, past))
    by_form (Some x) is = ap (λ f. overrider_in o f) (get_front types more t x is ∙ sym is)

-- what overrides an operation of a type is there
overrider_within : (types : List TypeForm) (o : Operation) (t : ℕ) (p : ProcedureNo) → overrider o types t ≡ Some p → t < length types
unfolding overrider
overrider_within types o t p e = by_form (slice_get types t) refl e
  where
    by_form : (found : Option TypeForm) → slice_get types t ≡ found → overrider_in o found ≡ Some p → t < length types
    by_form None is e = let no : None ≡ Some p = sym (inherits_none (object_of 0) refl o) ∙ e in absurd (cc no)
    by_form (Some x) is e = get_within types t x is

pub head_in_body : (k : Known) (head : HeadTree) → Sound k → InBody (around_body k head) (behind_head k head)
unfolding behind_head
head_in_body k head s =
    let own = (with_formals k head.formals no_formals).types in
    let longer_by = length-append k.types own in
    record {
      sound = head_sound k head s;
      around = refl;
      outer = refl;
      withs = refl;
      procedure = refl;
      types = forms_in k.types (k.types ++ (with_formals k head.formals no_formals).types) (λ t x is. get_front k.types (with_formals k head.formals no_formals).types t x is);
      overriders = overriders_front k.types (with_formals k head.formals no_formals).types;
      first_type = omega (arith, longer_by);
      placed = pools_in k.types (k.types ++ (with_formals k head.formals no_formals).types) (λ t x is. get_front k.types (with_formals k head.formals no_formals).types t x is);
      pools = λ t x is. is;
      exceptions = λ t x is. is;
      texts = λ t x is. is;
      bodies = λ t x is. is;
    }

-- what is known behind a body, but for the name of the procedure
abbrev pub left_body : Known → Known → BodyForm → Known
left_body k z b = record z { here = k.here; outer = k.outer; variables = k.variables; bodies = z.bodies ++ b ∷ [] }

pub longer_bodies : (bodies : List BodyForm) (b : BodyForm) → length (bodies ++ b ∷ []) ≡ length bodies + 1
longer_bodies bodies b = length-append bodies (b ∷ [])

-- behind a body, none of its part is without one
some_body : (k z : Known) (b : BodyForm) → Sound k → InBody k z → no_body_yet (left_body k z b) ≡ true → ⊥
some_body k z b s f none =
    let same : length (z.bodies ++ b ∷ []) ≡ k.here.first_body = eqb-true (length (z.bodies ++ b ∷ [])) k.here.first_body none in
    let least = s.bounds.first_body in
    let more = longer k.bodies z.bodies f.bodies in
    let one = longer_bodies z.bodies b in
    omega (arith, same, least, more, one)

-- one more body has a variable for each of its formal parameters
sized_more : (bodies : List BodyForm) (b : BodyForm) → AllSized bodies → length b.formals ≤ length b.variables → AllSized (bodies ++ b ∷ [])
sized_more [] b w own = (own, tt)
sized_more (c ∷ bodies) b w own = (w.0, sized_more bodies b w.1 own)

left_body_sound : (k z : Known) (b : BodyForm) → Sound k → InBody k z → length b.formals ≤ length b.variables → Sound (left_body k z b)
left_body_sound k z b s f own = record {
  types_fit = f.sound.types_fit;
  operations = have_stays z.types z.types (callables z.bodies) (callables (z.bodies ++ b ∷ [])) (λ o r is. is) (callables_in z.bodies (z.bodies ++ b ∷ []) (λ i x is. get_more z.bodies b i x is)) (λ t. inl refl) f.sound.operations;
  variables_fit = all_weaker (fits.variable_fits k.types) (fits.variable_fits z.types) (variable_kept k.types z.types (types_keep k.types z.types f.types)) k.variables s.variables_fit;
  names = subst (λ (a : Option (List VariableForm)). PartsFit z.types (variables_behind a z.variables) (parts k)) f.around (outers_fit k z f.sound f.outer);
  exceptions = outers_raised k z f.sound f.outer;
  called = let one = longer_bodies z.bodies b in called_later (length z.bodies) (length z.pools) (length (z.bodies ++ b ∷ [])) (length z.pools) (omega (arith, one)) (omega arith) (parts k) (outers_called k z f.sound f.outer);
  housed = f.sound.housed;
  controlled = f.sound.controlled;
  sized = sized_more z.bodies b f.sound.sized own;
  bounds = record {
    first = let a = s.bounds.first in let more = longer_types k.types z.types f.types in omega arith;
    first_variable = s.bounds.first_variable;
    modes = s.bounds.modes;
    first_body = let a = s.bounds.first_body in let more = longer k.bodies z.bodies f.bodies in let one = longer_bodies z.bodies b in omega arith;
    open_own = s.bounds.open_own;
    open_unused = λ none text t is. absurd (some_body k z b s f none);
    outer_before = s.bounds.outer_before;
  };
}

-- what a body at the end of which this is known is an operation of, if it is one
abbrev pub operand_at : Known → Option ℕ
operand_at z = operand_of z.types z.here.modes z.variables

-- what is known behind a body, in the words of the place before it
abbrev pub closed_body : Known → Known → List ℕ → BodyForm → Known
closed_body k z text b = closed (operation_named text) text (next_procedure z) (operand_at z) (left_body k z b)

pub ended_is : (k z : Known) (name : Ident) (fs : StmtsForm) (hs : HandlersForm) (start last : Spot) → InBody k z → body_ended name fs hs start last z ≡ closed_body k z name.text (body_of z fs hs start last)
ended_is k z name fs hs start last f =
    ap (λ (v : Known). closed (operation_named name.text) name.text (next_procedure z) (operand_at z) (with_procedure (body_of z fs hs start last) (record v { variables = variables_around z.here.around })))
    (left_parts z z.outer k.here k.outer f.outer) ∙
    ap (λ (a : Option (List VariableForm)). closed (operation_named name.text) name.text (next_procedure z) (operand_at z) (with_procedure (body_of z fs hs start last) (record z { here = k.here; outer = k.outer; variables = variables_around a })))
    f.around

-- behind the body of an operation, its type overrides that
closed_sound : (k : Known) (o : Option Operation) (text : List ℕ) (p : ProcedureNo) (found : Option ℕ) → Sound k → p.0 < length k.bodies → ((t : ℕ) → found ≡ Some t → fits.is_operation k.types t (slice_get (callables k.bodies) p.0) ≡ true) → Sound (closed o text p found k)
closed_sound k None text p found s called own = name_sound k text (entity.Callable p) s tt tt called tt (λ none. tt)
closed_sound k (Some o) text p found s called own =
    specified_sound (answered (Some o) k.here.specified) (record k { types = overridden_if (Some o) p found k.types })
    (retyped_sound (overridden_if (Some o) p found k.types) k (if_forms (Some o) p found k.types) (if_housed (length k.pools) (Some o) p found k.types s.housed)
    (if_operations (Some o) p found k.types (callables k.bodies) own s.operations) s)

-- a body is an operation of the type of its one formal parameter
body_operates : (z : Known) (fs : StmtsForm) (hs : HandlersForm) (start last : Spot) (t : ℕ) → operand_at z ≡ Some t → fits.is_operation z.types t (slice_get (callables (z.bodies ++ body_of z fs hs start last ∷ [])) (length z.bodies)) ≡ true
body_operates z fs hs start last t e =
    let b = body_of z fs hs start last in
    ap (λ o. fits.is_operation z.types t o) (profile_got (z.bodies ++ b ∷ []) (length z.bodies) ∙ ap (λ o. profile_at o) (get_last z.bodies b)) ∙ operand_operates z.types z.here.modes z.variables t e

pub body_ended_sound : (k z : Known) (name : Ident) (fs : StmtsForm) (hs : HandlersForm) (start last : Spot) → Sound k → InBody k z → Sound (body_ended name fs hs start last z)
body_ended_sound k z name fs hs start last s f =
    let b = body_of z fs hs start last in
    let one = longer_bodies z.bodies b in
    let modes = f.sound.bounds.modes in
    let variables = f.sound.bounds.first_variable in
    subst Sound (sym (ended_is k z name fs hs start last f))
    (closed_sound (left_body k z b) (operation_named name.text) name.text (next_procedure z) (operand_at z) (left_body_sound k z b s f (omega (arith, modes, variables))) (omega (arith, one))
    (body_operates z fs hs start last))

-- a name that stands for something is another than a new one, which is entered twice
pub twice_entered : (ns : List Named) (name text : List ℕ) (a b x : Entity) → named name ns ≡ None → named text ns ≡ Some x → named text (entered name b (entered name a ns)) ≡ Some x
twice_entered ns name text a b x none is =
    named_entered (entered name a ns) name text b ∙
    (ap (λ (c : Bool). cond c (Some b) (named text (entered name a ns))) (other_text text name apart) ∙ old_name ns name text a x none is)
  where
    no_entity : None ≡ Some x → ⊥
    no_entity e = cc e

    apart : text ≡ name → ⊥
    apart same = no_entity (sym none ∙ subst (λ (n : List ℕ). named n ns ≡ Some x) same is)

-- the body of an operation declares nothing
entered_behind : (o : Option Operation) (ns : List Named) (name text : List ℕ) (a b x : Entity) → (o ≡ None → named name ns ≡ None) → named text ns ≡ Some x → named text (entered_unless o name b (entered_unless o name a ns)) ≡ Some x
entered_behind None ns name text a b x none is = twice_entered ns name text a b x (none refl) is
entered_behind (Some o) ns name text a b x none is = is

-- the name of a body is new, unless it is that of an operation
abbrev pub IsNewBody : Known → HeadTree → Type 0
IsNewBody k head = operation_named head.name.text ≡ None → named head.name.text k.here.names ≡ None

-- what was declared in its part is so behind a body
pub body_ended_names : (k z : Known) (head : HeadTree) (fs : StmtsForm) (hs : HandlersForm) (start last : Spot) → IsNewBody k head → InBody (around_body k head) z → (text : List ℕ) (x : Entity) → named text k.here.names ≡ Some x → named text (body_ended head.name fs hs start last z).here.names ≡ Some x
body_ended_names k z head fs hs start last none f text x is =
    ap (λ (v : Known). named text v.here.names) (ended_is (around_body k head) z head.name fs hs start last f) ∙
    entered_behind (operation_named head.name.text) k.here.names head.name.text text entity.Procedure (entity.Callable (next_procedure z)) x none is

-- a body stands before there
pub body_ended_some : (k z : Known) (name : Ident) (fs : StmtsForm) (hs : HandlersForm) (start last : Spot) → Sound k → InBody k z → no_body_yet (body_ended name fs hs start last z) ≡ true → ⊥
body_ended_some k z name fs hs start last s f none = some_body k z (body_of z fs hs start last) s f (ap (λ (v : Known). no_body_yet v) (sym (ended_is k z name fs hs start last f)) ∙ none)

-- an operation of a type of the part is inherited
abbrev pub IsOpen : Known → Option Operation → Option ℕ → Type 0
IsOpen k None found = Unit {0}
IsOpen k (Some o) None = Unit {0}
IsOpen k (Some o) (Some t) = (k.here.first_type ≤ t) × (overrider o k.types t ≡ None)

-- so it may be overridden: what overrides others stays
still_overridden : (k z : Known) (o : Option Operation) (found : Option ℕ) (p : ProcedureNo) (a : Operation) (t : ℕ) (q : ProcedureNo) → IsOpen k o found → overrider a k.types t ≡ Some q → overrider a z.types t ≡ Some q → overrider a (overridden_if o p found z.types) t ≡ Some q
still_overridden k z None found p a t q may is there = there
still_overridden k z (Some o) None p a t q may is there = there
still_overridden k z (Some o) (Some u) p a t q may is there = overridden_other o p z.types u a t apart ∙ there
  where
    apart : a ≡ o → t ≡ u → ⊥
    apart same at =
        let none : overrider a k.types t ≡ None = ap (λ (c : Operation). overrider c k.types t) same ∙ (ap (λ (n : ℕ). overrider o k.types n) at ∙ may.1) in
        cc (none, is)

-- and so does what overrides those of types of the parts around
not_overridden : (k z : Known) (o : Option Operation) (found : Option ℕ) (p : ProcedureNo) (a : Operation) (t : ℕ) → IsOpen k o found → t < k.here.first_type → overrider a (overridden_if o p found z.types) t ≡ overrider a z.types t
not_overridden k z None found p a t may less = refl
not_overridden k z (Some o) None p a t may less = refl
not_overridden k z (Some o) (Some u) p a t may less = overridden_other o p z.types u a t (λ same at. let first = may.0 in omega (arith, first, less, at))

-- a body leaves the names of its part but its own, and the tables
pub body_ended_keeps : (k : Known) (z : Known) (head : HeadTree) (spot : Spot) (fs : StmtsForm) (hs : HandlersForm) (start last : Spot) → Sound k → IsNewBody k head → IsOpen k (operation_named head.name.text) (operand_at z) → InBody (around_body k head) z → Keeps k (body_ended head.name fs hs start last z)
body_ended_keeps k z head spot fs hs start last s none may f =
    let k1 = around_body k head in
    let b = body_of z fs hs start last in
    let e = entity.Callable (next_procedure z) in
    let o = operation_named head.name.text in
    let p = next_procedure z in
    let more = overridden_if o p (operand_at z) z.types in
    let same : forms more ≡ forms z.types = if_forms o p (operand_at z) z.types in
    let g : AreIn (forms k.types) (forms more) = λ t form is. grown z.types more same t form (f.types t form is) in
    subst (λ (v : Known). Keeps k v) (sym (ended_is k1 z head.name fs hs start last f)) (record {
      types = λ t form is settled. (g t form is, λ yet. absurd (some_body k1 z b (around_sound k head s) f yet));
      accesses = λ t name d is. g t (access_to name d None) is;
      overridden = λ a t q is.
          let less = overrider_within k.types a t q is in
          still_overridden k z o (operand_at z) p a t q may is (f.overriders a t less ∙ is);
      overriders = λ a t less. let first = s.bounds.first in not_overridden k z o (operand_at z) p a t may less ∙ f.overriders a t (omega (arith, first, less));
      placed = λ t n is. if_pool o p (operand_at z) z.types t ∙ f.placed t n is;
      pools = f.pools;
      type_names = λ t name is. named_type t name (slice_get k.types t) refl is;
      names = λ text x settled is. entered_behind o k.here.names head.name.text text entity.Procedure e x none is;
      more = longer_types k.types more g;
      variables = λ x v is. is;
      exceptions = f.exceptions;
      texts = f.texts;
      bodies = λ n c is. get_more z.bodies b n c (f.bodies n c is);
      first_type = refl;
      first_variable = refl;
      modes = refl;
      first_body = refl;
      around = refl;
      outer = refl;
      withs = f.withs;
      procedure = f.procedure;
    })
  where
    more_types : List TypeForm
    more_types = overridden_if (operation_named head.name.text) (next_procedure z) (operand_at z) z.types

    more_in : AreIn (forms k.types) (forms more_types)
    more_in t form is = grown z.types more_types (if_forms (operation_named head.name.text) (next_procedure z) (operand_at z) z.types) t form (f.types t form is)

    named_type : (t : ℕ) (name : List ℕ) (o : Option TypeForm) → slice_get k.types t ≡ o → name_of_type o ≡ Some name → name_of_type (slice_get more_types t) ≡ Some name
    named_type t name None is so = absurd (cc so)
    named_type t name (Some form) is so = same_at k.types more_types more_in (λ o. name_of_type o) name_bare t form is ∙ so
