-- Each declaration leaves what its part names its own, or open around it.

use Rattle.std.proofs.Common.{◌≡◌, ℕ, ◌+◌, ◌<◌, ◌≤◌, Bool, true, false, cond, List, [], ◌∷◌, ◌++◌, length, refl, sym, subst, eqb, eqb-true, zero, suc}
use Rattle.std.specs.Prelude.{Option, Some, None, ◌||◌, nat_le}
use Rattle.std.specs.List.{list_all, slice_get, slice_set}
use Rattle.std.proofs.lemmas.Bool.{leb-true, leb-false}
use Rattle.ada_tree.specs.Declarations.{HeadTree, SizeTree}
use Rattle.ada_tree.specs.Names.{Ident, NameTree}
use Rattle.ada_tree.specs.Records.{StaticTree, ComponentTree}
use Rattle.ada_tree.specs.Statements.{DeclarationTree, exception_declaration, constant_declaration, pool_declaration, attribute_clause, incomplete_type, access_type, record_type, derived_type, specification, instance, object_declaration, borrower_declaration}
use Rattle.ada_program.specs.declared.program.ComponentKind.{ComponentKind}
use Rattle.ada_program.specs.declared.program.ComponentKind.TheVariants as component
use Rattle.ada_program.specs.declared.program.Exception.TheVariants as exception
use Rattle.ada_program.specs.declared.program.PoolNo.{PoolNo}
use Rattle.ada_program.specs.declared.program.TypeNo.{TypeNo}
use Rattle.ada_program.specs.declared.program.VariableKind.{VariableKind}
use Rattle.ada_program.specs.declared.program.VariableKind.TheVariants as variable
use Rattle.ada_program.specs.Form.{ItemForm, PathForm, RightForm, value_of, DeclarationForm, creates_pool, collects, declares, declares_record}
use Rattle.ada_program.specs.Nested.{is_one_of, kind_is_open, record_objects}
use Rattle.ada_program.specs.ProgramForm.{TypeForm, record_of, access_to, object_of, pool_number}
use Rattle.ada_resolve.specs.declared.primitives.Operation.{Operation}
use Rattle.ada_resolve.specs.declared.scope.Entity.{Entity}
use Rattle.ada_resolve.specs.declared.scope.Entity.TheVariants as entity
use Rattle.ada_resolve.specs.Borrowers.{borrower_created, lender_found}
use Rattle.ada_resolve.specs.Exceptions.{next_exception}
use Rattle.ada_resolve.specs.Clauses.{placed, with_placed, placed_if, clause_pool}
use Rattle.ada_resolve.specs.Instances.{access_type_in, freed_found, instance_of, is_collected}
use Rattle.ada_resolve.specs.Known.{Known, Named, Part, Specifications, named, entered, declared, visible, is_empty, next_variable, parts, types_go_on}
use Rattle.ada_resolve.specs.Library.{is_library_root}
use Rattle.ada_resolve.specs.Objects.{type_in, object_type_found, held_of, kind_of, initial_items_in, initial_value_in, initial_found, collections_of, own_types, missing_collections, ends_types, after_types, initial_source, variable_created, object_created, next_record, record_created, created_of}
use Rattle.ada_resolve.specs.Paths.{elementary_in, elementary_of}
use Rattle.ada_resolve.specs.Pools.{aspect_found, next_pool, pool_known}
use Rattle.ada_resolve.specs.Rights.{Assigned}
use Rattle.ada_resolve.specs.Derived.{limited_parent, limited_with, with_parent}
use Rattle.ada_resolve.specs.Primitives.{formal_name, operation_named, specified_more}
use Rattle.ada_resolve.specs.Procedures.{head_operand}
use Rattle.ada_resolve.specs.Specifications.{operation_known, specified_if}
use Rattle.ada_resolve.specs.Records.{Composition, no_components, kind_in, kind_of_component, kinds_within, composed_with, composed, components_written, counted, finalization_made, record_made, with_record}
use Rattle.ada_resolve.specs.Resolution.{known_at, declaration_remark, declaration_known}
use Rattle.ada_resolve.specs.Statics.{static_value}
use Rattle.ada_resolve.specs.Types.{completed_type, record_in, record_found, defined, number_of, incomplete_known, access_defined}
use Rattle.ada_resolve.proofs.Nesting.Open.{RecordOpen, EntityOpen, PartsOpen, KindLies, ComponentsLie, FormLies, ObjectsLie, IsOwnType, OpenAround, EntityLies, visible_lies, visible_open, record_later, right_or}
use Rattle.ada_resolve.proofs.Standing.{IsBefore, PartsBefore, Sound, Keeps, object_settled, outer_settled, none_ended, record_made_keeps, ended_sound, IsSlot, slot_of, declaration_keeps}
use Rattle.ada_resolve.proofs.WellFormed.Forms.{bare, forms, forms_in, get_form, object_stays, object_there}
use Rattle.ada_resolve.proofs.WellFormed.Names.{all_entered}
use Rattle.ada_resolve.proofs.WellFormed.Placed.{each_was, grown, placed_forms}
use Rattle.ada_resolve.proofs.WellFormed.Remarks.{Quiet}
use Rattle.ada_resolve.proofs.WellFormed.Tables.{first_part, second_part, get_more, get_last}

-- a type of the parts around stays, but for its pool
abbrev StaysBefore : ℕ → List TypeForm → List TypeForm → Type 0
StaysBefore n types more = (t : ℕ) (form : TypeForm) → t < n → slice_get (forms types) t ≡ Some form → slice_get (forms more) t ≡ Some form

before_stays : (k m : Known) → Sound k → Keeps k m → StaysBefore k.here.first_type k.types m.types
before_stays k m s g t form less is = (g.types t form is (outer_settled k t s less)).0

-- so what is open around stays open
entity_later : (around : List ℕ) (n : ℕ) (types more : List TypeForm) → StaysBefore n types more → (e : Entity) → IsBefore n e → EntityOpen around types e → EntityOpen around more e
entity_later around n types more g (entity.Incomplete t) b w = w
entity_later around n types more g (entity.Record t size) b w = record_later around types more t.0 (λ form is. g t.0 form b is) w
entity_later around n types more g (entity.Access t) b w = w
entity_later around n types more g e b w = tt

parts_later : (around : List ℕ) (n : ℕ) (types more : List TypeForm) → StaysBefore n types more → (ps : List Part) → PartsBefore n ps → PartsOpen around types ps → PartsOpen around more ps
parts_later around n types more g [] b w = tt
parts_later around n types more g (p ∷ ps) b w =
    (λ text e is. entity_later around n types more g e (b.0 text e is) (w.0 text e is), parts_later around n types more g ps b.1 w.1)

form_later : (around : List ℕ) (n : ℕ) (types more : List TypeForm) → StaysBefore n types more → (form : TypeForm) → FormLies around n types form → FormLies around n more form
form_later around n types more g (record_of name ps cs final) w = w
form_later around n types more g (access_to name d pool) w = λ less. record_later around types more d (λ form is. g d form less is) (w less)
form_later around n types more g (object_of r) w = λ less. record_later around types more r (λ form is. g r form less is) (w less)

-- the record objects of a part lie in it still where a type is declared or completed
objects_stay : (k m : Known) → Sound k → Keeps k m → ObjectsLie k.here.first_type k.types k.here.elaborated → ObjectsLie k.here.first_type m.types k.here.elaborated
objects_stay k m s g w o e =
    let own = w o e in
    let later = g.types o (object_of own.1) (get_form k.types o (object_of own.1) own.2) (object_settled k o own.1 s own.2) in
    (own.0, own.1, object_there m.types o own.1 later.0)

-- those of what is elaborated next too
objects_both : (n : ℕ) (types : List TypeForm) (es ds : List DeclarationForm) → ObjectsLie n types es → ObjectsLie n types ds → ObjectsLie n types (es ++ ds)
objects_both n types [] ds old new = new
objects_both n types (creates_pool p ∷ es) ds old new = objects_both n types es ds old new
objects_both n types (collects t ∷ es) ds old new = objects_both n types es ds old new
objects_both n types (declares x value ∷ es) ds old new = objects_both n types es ds old new
objects_both n types (declares_record x object initial ∷ es) ds old new =
    let rest = objects_both n types es ds (λ o e. old o (right_or (eqb object o) (is_one_of (record_objects es) o) e)) new in
    λ o e. by_test o (eqb object o) (old o) (rest o) e
  where
    by_test : (o : ℕ) (b : Bool) → ((b || is_one_of (record_objects es) o) ≡ true → (n ≤ o) × (r : ℕ) × (slice_get types o ≡ Some (object_of r))) → (is_one_of (record_objects (es ++ ds)) o ≡ true → (n ≤ o) × (r : ℕ) × (slice_get types o ≡ Some (object_of r))) → (b || is_one_of (record_objects (es ++ ds)) o) ≡ true → (n ≤ o) × (r : ℕ) × (slice_get types o ≡ Some (object_of r))
    by_test o true own rest e = own refl
    by_test o false own rest e = rest e

-- a collection is no record object
no_objects : (n t : ℕ) (types ts : List TypeForm) (es : List DeclarationForm) → ObjectsLie n types (collections_of t ts es)
no_objects n t types [] es = λ o e. absurd (cc e)
no_objects n t types (record_of name ps cs final ∷ ts) es = no_objects n (t + 1) types ts es
no_objects n t types (object_of r ∷ ts) es = no_objects n (t + 1) types ts es
no_objects n t types (access_to name d pool ∷ ts) es = by_test (is_collected t es) (no_objects n (t + 1) types ts es)
  where
    by_test : (b : Bool) → ObjectsLie n types (collections_of (t + 1) ts es) → ObjectsLie n types (cond b (collections_of (t + 1) ts es) (collects t ∷ collections_of (t + 1) ts es))
    by_test true rest = rest
    by_test false rest = rest

-- a type that is there once one is declared or completed: that one, or another that was there
got_more : (P : TypeForm → Type 0) (types : List TypeForm) (form : TypeForm) (t : ℕ) (x : TypeForm) → P form → (slice_get types t ≡ Some x → P x) → slice_get (types ++ form ∷ []) t ≡ Some x → P x
got_more P [] form zero x own old is = let same : form ≡ x = cc is in subst P same own
got_more P [] form (suc t) x own old is = absurd (cc is)
got_more P (y ∷ types) form zero x own old is = old is
got_more P (y ∷ types) form (suc t) x own old is = got_more P types form t x own old is

got_set : (P : TypeForm → Type 0) (types : List TypeForm) (u : ℕ) (form : TypeForm) (t : ℕ) (x : TypeForm) → P form → (slice_get types t ≡ Some x → P x) → slice_get (slice_set types u form) t ≡ Some x → P x
got_set P [] u form t x own old is = old is
got_set P (y ∷ types) zero form zero x own old is = let same : form ≡ x = cc is in subst P same own
got_set P (y ∷ types) zero form (suc t) x own old is = old is
got_set P (y ∷ types) (suc u) form zero x own old is = old is
got_set P (y ∷ types) (suc u) form (suc t) x own old is = got_set P types u form t x own old is

got_defined : (P : TypeForm → Type 0) (c : Option TypeNo) (types : List TypeForm) (form : TypeForm) (t : ℕ) (x : TypeForm) → P form → (slice_get types t ≡ Some x → P x) → slice_get (defined c form types) t ≡ Some x → P x
got_defined P None types form t x own old is = got_more P types form t x own old is
got_defined P (Some u) types form t x own old is = got_set P types u.0 form t x own old is

-- a name of the part, where one more is declared
own_entered : (n : ℕ) (ns : List Named) (text : List ℕ) (e : Entity) → IsOwnType n e → ((t : List ℕ) (x : Entity) → named t ns ≡ Some x → IsOwnType n x) → (t : List ℕ) (x : Entity) → named t (entered text e ns) ≡ Some x → IsOwnType n x
own_entered n ns text e own old = all_entered (λ t x. IsOwnType n x) ns text e own (λ t x ne is. old t x is)

-- a type that is declared or completed
type_open : (around : List ℕ) (k : Known) (text : List ℕ) (e : Entity) (c : Option TypeNo) (form : TypeForm) (m : ℕ) → Sound k → OpenAround around k → Keeps k (declared (record k { types = defined c form k.types; controlled = m }) text e) → IsOwnType k.here.first_type e → FormLies around k.here.first_type k.types form → OpenAround around (declared (record k { types = defined c form k.types; controlled = m }) text e)
type_open around k text e c form m s w g own lies =
    let n = k.here.first_type in
    let more = defined c form k.types in
    let stays = before_stays k (declared (record k { types = more; controlled = m }) text e) s g in
    record {
      before = w.before;
      outer = parts_later around n k.types more stays k.outer s.bounds.outer_before w.outer;
      own = own_entered n k.here.names text e own w.own;
      forms = λ t x le is. form_later around n k.types more stays x
          (got_defined (FormLies around n k.types) c k.types form t x lies (λ there. w.forms t x le there) is);
      objects = objects_stay k (declared (record k { types = more; controlled = m }) text e) s g w.objects;
    }

-- nothing is declared but a name
name_open : (around : List ℕ) (k : Known) (text : List ℕ) (e : Entity) → OpenAround around k → IsOwnType k.here.first_type e → OpenAround around (declared k text e)
name_open around k text e w own =
    record { before = w.before; outer = w.outer; own = own_entered k.here.first_type k.here.names text e own w.own; forms = w.forms; objects = w.objects }

-- the number of a type that is declared or completed
own_number : (k : Known) (text : List ℕ) (c : Option TypeNo) → Sound k → IsSlot k text c → k.here.first_type ≤ (number_of c k.types).0
own_number k text None s slot = s.bounds.first
own_number k text (Some t) s slot = s.bounds.open_own text t slot

-- `type T;`
incomplete_open : (around : List ℕ) (k : Known) (name : Ident) → Sound k → OpenAround around k → Keeps k (incomplete_known k name) → OpenAround around (incomplete_known k name)
incomplete_open around k name s w g = type_open around k name.text (entity.Incomplete (record { 0 = length k.types })) None (record_of name.text [] [] None) k.controlled s w g s.bounds.first tt

-- `type A is access T;`
found_open : (around : List ℕ) (n : ℕ) (types : List TypeForm) (o : Option Entity) (d : TypeNo) → ((e : Entity) → o ≡ Some e → EntityLies around n types e) → record_in o ≡ Some d → d.0 < n → RecordOpen around types d.0
found_open around n types None d w is = absurd (cc is)
found_open around n types (Some e) d w is = of_those e (w e refl) is
  where
    of_those : (e : Entity) → EntityLies around n types e → record_in (Some e) ≡ Some d → d.0 < n → RecordOpen around types d.0
    of_those (entity.Incomplete t) lies is = let same : t ≡ d = cc is in subst (λ (u : TypeNo). u.0 < n → RecordOpen around types u.0) same lies
    of_those (entity.Record t size) lies is = let same : t ≡ d = cc is in subst (λ (u : TypeNo). u.0 < n → RecordOpen around types u.0) same lies
    of_those e lies is = absurd (cc is)

designated_open : (around : List ℕ) (k : Known) (designated : Ident) (d : TypeNo) → OpenAround around k → record_found k designated ≡ Some d → d.0 < k.here.first_type → RecordOpen around k.types d.0
unfolding record_found
designated_open around k designated d w is =
    found_open around k.here.first_type k.types (visible k designated.text) d (visible_lies around k w designated.text) is

access_open_at : (around : List ℕ) (k : Known) (name : Ident) (c o : Option TypeNo) (pool : Option PoolNo) → Sound k → OpenAround around k → IsSlot k name.text c → Keeps k (access_defined k name c o pool) → ((d : TypeNo) → o ≡ Some d → d.0 < k.here.first_type → RecordOpen around k.types d.0) → OpenAround around (access_defined k name c o pool)
access_open_at around k name c None pool s w slot g lies = w
access_open_at around k name c (Some d) pool s w slot g lies =
    type_open around k name.text (entity.Access (number_of c k.types)) c (access_to name.text d.0 (pool_number pool)) k.controlled s w g (own_number k name.text c s slot) (lies d refl)

-- `type T is record .. end record;`
both_lie : (around : List ℕ) (n : ℕ) (own others : List ComponentKind) → ComponentsLie around n own → ComponentsLie around n others → ComponentsLie around n (own ++ others)
both_lie around n [] others v w = w
both_lie around n (kind ∷ own) others v w = (v.0, both_lie around n own others v.1 w)

open_lie : (around : List ℕ) (n : ℕ) (kinds : List ComponentKind) → list_all (kind_is_open around) kinds ≡ true → ComponentsLie around n kinds
open_lie around n [] e = tt
open_lie around n (kind ∷ kinds) e =
    (one kind (first_part (kind_is_open around kind) (list_all (kind_is_open around) kinds) e), open_lie around n kinds (second_part (kind_is_open around kind) (list_all (kind_is_open around) kinds) e))
  where
    one : (kind : ComponentKind) → kind_is_open around kind ≡ true → KindLies around n kind
    one (component.Integer initial) e = tt
    one (component.Boolean initial) e = tt
    one (component.Access t) e = λ less. e

-- the elementary components of a record type of the part, or of one that is open around it
record_lies : (around : List ℕ) (k : Known) → OpenAround around k → (t : ℕ) → (t < k.here.first_type → RecordOpen around k.types t) → ComponentsLie around k.here.first_type (elementary_of k.types t)
unfolding elementary_of
record_lies around k w t lies = by_place (nat_le k.here.first_type t) refl
  where
    n : ℕ
    n = k.here.first_type

    own : n ≤ t → (o : Option TypeForm) → slice_get k.types t ≡ o → ComponentsLie around n (elementary_in o)
    own behind None is = tt
    own behind (Some (record_of name ps cs final)) is = w.forms t (record_of name ps cs final) behind is
    own behind (Some (access_to name d pool)) is = tt
    own behind (Some (object_of r)) is = tt

    by_place : (b : Bool) → nat_le n t ≡ b → ComponentsLie around n (elementary_in (slice_get k.types t))
    by_place true behind = own (leb-true n t behind) (slice_get k.types t) refl
    by_place false before =
        let r = lies (leb-false n t before) in
        subst (λ (o : Option TypeForm). ComponentsLie around n (elementary_in o)) (sym r.4) (open_lie around n r.2 r.5)

kind_lies : (around : List ℕ) (k : Known) (o : Option Entity) (initial : Option StaticTree) → OpenAround around k → ((e : Entity) → o ≡ Some e → EntityLies around k.here.first_type k.types e) → ComponentsLie around k.here.first_type (kinds_within k.types (kind_in o k initial))
kind_lies around k None initial u w = (tt, tt)
kind_lies around k (Some e) initial u w = of_those e (w e refl)
  where
    of_those : (e : Entity) → EntityLies around k.here.first_type k.types e → ComponentsLie around k.here.first_type (kinds_within k.types (kind_in (Some e) k initial))
    of_those (entity.Access t) lies = (lies, tt)
    of_those (entity.Record t size) lies = record_lies around k u t.0 lies
    of_those e lies = (tt, tt)

components_lie : (around : List ℕ) (k : Known) → OpenAround around k → (before : Composition) (cs : List ComponentTree) → ComponentsLie around k.here.first_type before.kinds → ComponentsLie around k.here.first_type (composed k before cs).kinds
components_lie around k w before [] old = old
components_lie around k w before (c ∷ cs) old =
    components_lie around k w (composed_with k before c) cs
    (both_lie around k.here.first_type before.kinds (kinds_within k.types (kind_of_component k c)) old
    (kind_lies around k (visible k c.type_name.text) c.initial w (visible_lies around k w c.type_name.text)))

record_type_open : (around : List ℕ) (k : Known) (name : Ident) (before : Composition) (cs : List ComponentTree) → ComponentsLie around k.here.first_type before.kinds → Sound k → OpenAround around k → IsSlot k name.text (completed_type k name) → Keeps k (with_record k name (composed k before cs)) → OpenAround around (with_record k name (composed k before cs))
record_type_open around k name before cs old s w slot g =
    let c = completed_type k name in
    let made = composed k before cs in
    type_open around k name.text (entity.Record (number_of c k.types) made.size) c (record_made k.controlled name made) (counted (finalization_made k.controlled made) k.controlled) s w g
    (own_number k name.text c s slot) (components_lie around k w before cs old)

-- which types are limited alone changes
open_limited : (around limited : List ℕ) (k : Known) → OpenAround around k → OpenAround around (record k { limited = limited })
open_limited around limited k w = record { before = w.before; outer = w.outer; own = w.own; forms = w.forms; objects = w.objects }

-- `procedure Finalize (X : in out T);`
open_specified : (around : List ℕ) (specified : Specifications) (k : Known) → OpenAround around k → OpenAround around (record k { here = record k.here { specified = specified } })
open_specified around specified k w = record { before = w.before; outer = w.outer; own = w.own; forms = w.forms; objects = w.objects }

specified_open : (around : List ℕ) (k : Known) (o : Operation) (t : Option ℕ) (formal : List ℕ) → OpenAround around k → OpenAround around (specified_if o t formal k)
specified_open around k o (Some t) formal w = open_specified around (specified_more o t formal k.here.specified) k w
specified_open around k o None formal w = w

operation_open : (around : List ℕ) (k : Known) (o : Option Operation) (head : HeadTree) → OpenAround around k → OpenAround around (operation_known o k head)
operation_open around k (Some o) head w = specified_open around k o (head_operand (Some o) k head) (formal_name head.formals) w
operation_open around k None head w = w

-- `procedure Free is new Ada.Unchecked_Deallocation (T, A);`
instance_open : (around : List ℕ) (k : Known) (name : Ident) (o : Option TypeNo) → OpenAround around k → OpenAround around (instance_of k name o)
instance_open around k name None w = w
instance_open around k name (Some t) w = record {
  before = w.before;
  outer = w.outer;
  own = own_entered k.here.first_type k.here.names name.text (entity.Instance t) tt w.own;
  forms = w.forms;
  objects = objects_both k.here.first_type k.types k.here.elaborated (collects t.0 ∷ []) w.objects (λ o e. absurd (cc e));
}

-- `P : Profile_Pools.First_Fit_Pool (64);`
pool_open : (around : List ℕ) (k : Known) (name : Ident) (size : SizeTree) → OpenAround around k → OpenAround around (pool_known k name size)
pool_open around k name size w = record {
  before = w.before;
  outer = w.outer;
  own = own_entered k.here.first_type k.here.names name.text (entity.Pool (next_pool k)) tt w.own;
  forms = w.forms;
  objects = objects_both k.here.first_type k.types k.here.elaborated (creates_pool (length k.pools) ∷ []) w.objects (λ o e. absurd (cc e));
}

-- `for A'Storage_Pool use P;`
form_bare : (around : List ℕ) (n : ℕ) (types : List TypeForm) (x : TypeForm) → FormLies around n types x → FormLies around n types (bare x)
form_bare around n types (record_of name ps cs final) w = w
form_bare around n types (access_to name d pool) w = w
form_bare around n types (object_of r) w = w

bare_form : (around : List ℕ) (n : ℕ) (types : List TypeForm) (x : TypeForm) → FormLies around n types (bare x) → FormLies around n types x
bare_form around n types (record_of name ps cs final) w = w
bare_form around n types (access_to name d pool) w = w
bare_form around n types (object_of r) w = w

placed_open : (around : List ℕ) (k : Known) (access : TypeNo) (pool : PoolNo) → Sound k → OpenAround around k → OpenAround around (with_placed access pool k)
placed_open around k access pool s w =
    let n = k.here.first_type in
    let more = placed pool.0 k.types access.0 in
    let same = placed_forms pool.0 k.types access.0 in
    let stays : StaysBefore n k.types more = λ t form less is. grown k.types more same t form is in
    record {
      before = w.before;
      outer = parts_later around n k.types more stays k.outer s.bounds.outer_before w.outer;
      own = w.own;
      forms = λ t x le is.
          let was = each_was k.types more same t x is in
          bare_form around n more x (subst (λ (y : TypeForm). FormLies around n more y) was.2
          (form_bare around n more was.0 (form_later around n k.types more stays was.0 (w.forms t was.0 le was.1))));
      objects = λ o e. let own = w.objects o e in (own.0, own.1, object_stays k.types more (grown k.types more same) o own.1 own.2);
    }

clause_open : (around : List ℕ) (k : Known) (access : Option TypeNo) (pool : Option PoolNo) → Sound k → OpenAround around k → OpenAround around (placed_if access pool k)
clause_open around k (Some access) (Some pool) s w = placed_open around k access pool s w
clause_open around k (Some access) None s w = w
clause_open around k None pool s w = w

-- a variable
made_open : (around : List ℕ) (k : Known) (name : Ident) (borrows : Bool) (kind : VariableKind) (value : RightForm) → OpenAround around k → OpenAround around (variable_created k name borrows kind value)
made_open around k name borrows kind value w = record {
  before = w.before;
  outer = w.outer;
  own = own_entered k.here.first_type k.here.names name.text (entity.Variable (next_variable k) kind) tt w.own;
  forms = w.forms;
  objects = objects_both k.here.first_type k.types k.here.elaborated (declares (length k.variables) value ∷ []) w.objects (λ o e. absurd (cc e));
}

-- `X : T := ..;`
created_open : (around : List ℕ) (k : Known) (name : Ident) (kind : Option VariableKind) (value : Option RightForm) → OpenAround around k → OpenAround around (object_created k name kind value)
created_open around k name None value w = w
created_open around k name (Some kind) value w = made_open around k name false kind (initial_source value) w

-- `R : T;`
record_open : (around : List ℕ) (k : Known) (name : Ident) (t : TypeNo) (initial : Option (List ItemForm)) → Sound k → OpenAround around k → (t.0 < k.here.first_type → RecordOpen around k.types t.0) → OpenAround around (record_created k name t initial)
record_open around k name t initial s w lies =
    let n = k.here.first_type in
    let form = object_of t.0 in
    let more = k.types ++ form ∷ [] in
    let made = declares_record (length k.variables) (length k.types) initial in
    let stays : StaysBefore n k.types more = λ u x less is. forms_in k.types more (λ t y there. get_more k.types form t y there) u x is in
    let old : ObjectsLie n more k.here.elaborated = λ o e. let own = w.objects o e in (own.0, own.1, get_more k.types form o (object_of own.1) own.2) in
    record {
      before = w.before;
      outer = parts_later around n k.types more stays k.outer s.bounds.outer_before w.outer;
      own = own_entered n k.here.names name.text (entity.Variable (next_variable k) (next_record k)) tt w.own;
      forms = λ u x le is. form_later around n k.types more stays x (got_more (FormLies around n k.types) k.types form u x lies (λ there. w.forms u x le there) is);
      objects = objects_both n more k.here.elaborated (made ∷ []) old (λ o e. by_test o (eqb (length k.types) o) refl e);
    }
  where
    by_test : (o : ℕ) (b : Bool) → eqb (length k.types) o ≡ b → (b || false) ≡ true → (k.here.first_type ≤ o) × (r : ℕ) × (slice_get (k.types ++ object_of t.0 ∷ []) o ≡ Some (object_of r))
    by_test o true on e =
        let same = eqb-true (length k.types) o on in
        subst (λ (u : ℕ). (k.here.first_type ≤ u) × (r : ℕ) × (slice_get (k.types ++ object_of t.0 ∷ []) u ≡ Some (object_of r))) same
        (s.bounds.first, t.0, get_last k.types (object_of t.0))
    by_test o false on e = absurd (cc e)

-- the type of an object
type_in_lies : (around : List ℕ) (n : ℕ) (types : List TypeForm) (o : Option Entity) (e : Entity) → ((x : Entity) → o ≡ Some x → EntityLies around n types x) → type_in o ≡ Some e → EntityLies around n types e
type_in_lies around n types (Some entity.Integer) e w is = let same : entity.Integer ≡ e = cc is in subst (λ (x : Entity). EntityLies around n types x) same tt
type_in_lies around n types (Some entity.Boolean) e w is = let same : entity.Boolean ≡ e = cc is in subst (λ (x : Entity). EntityLies around n types x) same tt
type_in_lies around n types (Some (entity.Record t size)) e w is = let same : entity.Record t size ≡ e = cc is in subst (λ (x : Entity). EntityLies around n types x) same (w (entity.Record t size) refl)
type_in_lies around n types (Some (entity.Access t)) e w is = let same : entity.Access t ≡ e = cc is in subst (λ (x : Entity). EntityLies around n types x) same (w (entity.Access t) refl)
type_in_lies around n types (Some other) e w is = absurd (cc is)
type_in_lies around n types None e w is = absurd (cc is)

object_type_lies : (around : List ℕ) (k : Known) (type_name : NameTree) → OpenAround around k → (e : Entity) → object_type_found k type_name ≡ Some e → EntityLies around k.here.first_type k.types e
unfolding object_type_found
object_type_lies around k type_name w e is = by_root (is_library_root type_name.first.text) is
  where
    by_rest : (b : Bool) → cond b (type_in (visible k type_name.first.text)) None ≡ Some e → EntityLies around k.here.first_type k.types e
    by_rest true is = type_in_lies around k.here.first_type k.types (visible k type_name.first.text) e (visible_lies around k w type_name.first.text) is
    by_rest false is = absurd (cc is)

    by_root : (b : Bool) → cond b None (cond (is_empty type_name.rest) (type_in (visible k type_name.first.text)) None) ≡ Some e → EntityLies around k.here.first_type k.types e
    by_root true is = absurd (cc is)
    by_root false is = by_rest (is_empty type_name.rest) is

pub object_type_at : (around : List ℕ) (n : ℕ) (k : Known) (type_name : NameTree) → PartsOpen around k.types (parts k) → (e : Entity) → object_type_found k type_name ≡ Some e → EntityLies around n k.types e
unfolding object_type_found
object_type_at around n k type_name w e is = by_root (is_library_root type_name.first.text) is
  where
    by_rest : (b : Bool) → cond b (type_in (visible k type_name.first.text)) None ≡ Some e → EntityLies around n k.types e
    by_rest true is = type_in_lies around n k.types (visible k type_name.first.text) e (visible_open around n k w type_name.first.text) is
    by_rest false is = absurd (cc is)

    by_root : (b : Bool) → cond b None (cond (is_empty type_name.rest) (type_in (visible k type_name.first.text)) None) ≡ Some e → EntityLies around n k.types e
    by_root true is = absurd (cc is)
    by_root false is = by_rest (is_empty type_name.rest) is

found_created_open : (around : List ℕ) (k : Known) (name : Ident) (o : Option Entity) (value : Option Assigned) → Sound k → OpenAround around k → ((e : Entity) → o ≡ Some e → EntityLies around k.here.first_type k.types e) → OpenAround around (created_of k name o value)
found_created_open around k name (Some (entity.Record t size)) value s w lies = record_open around k name t (initial_items_in value) s w (lies (entity.Record t size) refl)
found_created_open around k name o value s w lies = created_open around k name (kind_of o) (initial_value_in value) w

-- `B : access T := P;`
borrower_open : (around : List ℕ) (k : Known) (name : Ident) (o : Option (PathForm × TypeNo)) → OpenAround around k → OpenAround around (borrower_created k name o)
borrower_open around k name None w = w
borrower_open around k name (Some lender) w = made_open around k name true (variable.Access lender.1) (value_of lender.0) w

-- the types end
ends_open : (around : List ℕ) (b : Bool) (k : Known) → OpenAround around k → OpenAround around (ends_types b k)
ends_open around true k w = record {
  before = w.before;
  outer = w.outer;
  own = w.own;
  forms = w.forms;
  objects = objects_both k.here.first_type k.types k.here.elaborated (missing_collections k) w.objects
      (no_objects k.here.first_type k.here.first_type k.types (own_types k) k.here.elaborated);
}
ends_open around false k w = w

pub ended_open : (around : List ℕ) (k : Known) → OpenAround around k → OpenAround around (after_types k)
unfolding after_types
ended_open around k w = ends_open around (types_go_on k) k w

-- a declaration
pub declaration_open : (around : List ℕ) (k : Known) (d : DeclarationTree) → Sound k → OpenAround around k → Quiet (declaration_remark (known_at k d) d) → OpenAround around (declaration_known (known_at k d) d)
declaration_open around k (incomplete_type spot name) s w q = incomplete_open around k name s w (declaration_keeps k (incomplete_type spot name) s q)
declaration_open around k (access_type spot name designated aspect) s w q =
    access_open_at around k name (completed_type k name) (record_found k designated) (aspect_found k aspect) s w (slot_of k name spot q.1.1.0)
    (declaration_keeps k (access_type spot name designated aspect) s q) (λ d is. designated_open around k designated d w is)
declaration_open around k (record_type spot name definition) s w q =
    record_type_open around k name no_components (components_written definition) tt s w (slot_of k name spot q.1.0) (declaration_keeps k (record_type spot name definition) s q)
declaration_open around k (derived_type spot name parent definition) s w q =
    let made = composed k (with_parent (limited_parent k parent)) (components_written definition) in
    open_limited around (limited_with (limited_parent k parent) (number_of (completed_type k name) k.types) (with_record k name made).limited) (with_record k name made)
    (record_type_open around k name (with_parent (limited_parent k parent)) (components_written definition) tt s w (slot_of k name spot q.1.0)
    (record_made_keeps k name made (none_ended k spot q.0) s (slot_of k name spot q.1.0)))
declaration_open around k (instance spot name generic object access) s w q = instance_open around k name (freed_found k access (record_found k object)) w
declaration_open around k (constant_declaration name value) s w q = name_open around k name.text (entity.Number (static_value k value)) w tt
declaration_open around k (exception_declaration name) s w q = record {
  before = w.before;
  outer = w.outer;
  own = own_entered k.here.first_type k.here.names name.text (entity.Exception (exception.Declared (next_exception k))) tt w.own;
  forms = w.forms;
  objects = w.objects;
}
declaration_open around k (pool_declaration name type_name label size) s w q = pool_open around k name size w
declaration_open around k (attribute_clause spot name attribute value) s w q = clause_open around k (access_type_in (visible k name.text)) (clause_pool k value) s w
declaration_open around k (object_declaration name type_name initial) s w q =
    let m = after_types k in
    let o : OpenAround around m = ended_open around k w in
    found_created_open around m name (object_type_found m type_name) (initial_found m (held_of (object_type_found m type_name)) initial)
    (ended_sound k s) o (object_type_lies around m type_name o)
declaration_open around k (borrower_declaration name designated initial) s w q =
    borrower_open around (after_types k) name (lender_found (after_types k) initial) (ended_open around k w)
declaration_open around k (specification head) s w q = operation_open around k (operation_named head.name.text) head w
declaration_open around k d s w q = absurd q
