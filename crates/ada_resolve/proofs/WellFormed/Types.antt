-- What the names of types stand for is there, of the kind that is found.

use Rattle.std.proofs.Common.{◌≡◌, ℕ, Bool, true, false, cond, List, [], ◌∷◌, length, refl, subst, zero, suc, arith}
use Rattle.std.specs.Prelude.{Option, Some, None}
use Rattle.std.specs.List.{list_all, slice_get}
use Rattle.ada_text.specs.declared.spot.Spot.{Spot}
use Rattle.ada_tree.specs.Names.{Ident, NameTree}
use Rattle.ada_tree.specs.Records.{StaticTree, ComponentTree}
use Rattle.ada_program.specs.declared.program.ComponentKind.{ComponentKind}
use Rattle.ada_program.specs.declared.program.Finalization.{Finalization}
use Rattle.ada_program.specs.declared.program.PartKind.{PartKind}
use Rattle.ada_program.specs.declared.program.PartKind.TheVariants as part
use Rattle.ada_program.specs.declared.program.TypeNo.{TypeNo}
use Rattle.ada_program.specs.declared.program.VariableKind.{VariableKind}
use Rattle.ada_program.specs.Form.{DeclarationForm}
use Rattle.ada_program.specs.ProgramForm.{PartForm, TypeForm, record_of, access_to, object_of, VariableForm}
use Rattle.ada_program.specs.WellFormed as fits
use Rattle.ada_resolve.specs.declared.scope.Entity.{Entity}
use Rattle.ada_resolve.specs.declared.scope.Entity.TheVariants as entity
use Rattle.ada_resolve.specs.Instances.{access_type_in, access_if, access_in, freed_found, designates_if_known, one_instance}
use Rattle.ada_resolve.specs.Known.{Known, visible, parts, is_empty}
use Rattle.ada_resolve.specs.Library.{is_library_root}
use Rattle.ada_resolve.specs.Objects.{type_in, object_type_found, kind_of}
use Rattle.ada_resolve.specs.Naming.{AreLaidOut}
use Rattle.ada_resolve.specs.Paths.{elementary_of, elementary_in}
use Rattle.ada_resolve.specs.Records.{kind_in, kind_of_component, kinds_within, Composition, no_components, component_meant, composed_with, composed, finalization_made}
use Rattle.ada_resolve.specs.Derived.{parent_part, with_parent}
use Rattle.ada_resolve.specs.Types.{record_in, record_found}
use Rattle.ada_resolve.proofs.WellFormed.Remarks.{Quiet}
use Rattle.ada_resolve.proofs.WellFormed.Numbered.{IsNext, SaysParts, order_last, first_last, made_next, made_overrides, made_says}
use Rattle.ada_resolve.proofs.WellFormed.Tables.{both_parts, all_more, all_get, each_more, plain_of}
use Rattle.ada_resolve.proofs.WellFormed.Laid.{OfParts, RecordHas, IsLaid, laid_more}
use Rattle.ada_resolve.proofs.WellFormed.Names.{EntityFits, PartsFit, visible_fits}

-- it is a record type
pub record_is : (types : List TypeForm) (t : ℕ) (name : List ℕ) (ps : List PartForm) (cs : List ComponentKind) (final : Option Finalization) → slice_get types t ≡ Some (record_of name ps cs final) → fits.is_record types t ≡ true
record_is types t name ps cs final is = rw is refl

-- it is an access type
pub access_is : (types : List TypeForm) (t : ℕ) (name : List ℕ) (d : ℕ) (pool : Option ℕ) → slice_get types t ≡ Some (access_to name d pool) → fits.is_access types t ≡ true
access_is types t name d pool is = rw is refl

-- the kinds of an elementary component alone
abbrev own_kinds : PartKind → List ComponentKind
own_kinds (part.Elementary kind) = kind ∷ []
own_kinds (part.Record t) = []
own_kinds part.Parent = []

-- an elementary component is of what its type's name stands for, and a record is of a record type
kind_there : (k : Known) (text : List ℕ) (e : Entity) (initial : Option StaticTree) → EntityFits k.types k.variables text e → list_all (fits.kind_fits k.types) (own_kinds (kind_in (Some e) k initial)) ≡ true
kind_there k text (entity.Access t) initial f = both_parts (fits.is_access k.types t.0) true (access_is k.types t.0 text f.0 f.1 f.2) refl
kind_there k text e initial f = refl

kinds_there : (k : Known) (text : List ℕ) (o : Option Entity) (initial : Option StaticTree) → ((e : Entity) → o ≡ Some e → EntityFits k.types k.variables text e) → list_all (fits.kind_fits k.types) (own_kinds (kind_in o k initial)) ≡ true
kinds_there k text (Some e) initial w = kind_there k text e initial (w e refl)
kinds_there k text None initial w = refl

elementary_fit : (types : List TypeForm) (t : ℕ) → list_all (fits.type_fits types) types ≡ true → list_all (fits.kind_fits types) (elementary_of types t) ≡ true
unfolding elementary_of
elementary_fit types t all = by_form (slice_get types t) refl
  where
    by_form : (o : Option TypeForm) → slice_get types t ≡ o → list_all (fits.kind_fits types) (elementary_in o) ≡ true
    by_form None is = refl
    by_form (Some (record_of name ps cs final)) is = plain_of types (record_of name ps cs final) (all_get (fits.type_fits types) types t (record_of name ps cs final) all is)
    by_form (Some (access_to name d pool)) is = refl
    by_form (Some (object_of r)) is = refl

within_fit : (types : List TypeForm) (kind : PartKind) → list_all (fits.type_fits types) types ≡ true → list_all (fits.kind_fits types) (own_kinds kind) ≡ true → list_all (fits.kind_fits types) (kinds_within types kind) ≡ true
within_fit types (part.Elementary kind) all own = own
within_fit types (part.Record t) all own = elementary_fit types t.0 all
within_fit types part.Parent all own = refl

-- what a record type is made of fits
composed_fit : (k : Known) → PartsFit k.types k.variables (parts k) → list_all (fits.type_fits k.types) k.types ≡ true → (before : Composition) (cs : List ComponentTree) → list_all (fits.kind_fits k.types) before.kinds ≡ true → list_all (fits.kind_fits k.types) (composed k before cs).kinds ≡ true
composed_fit k w all before [] h = h
composed_fit k w all before (c ∷ cs) h =
    composed_fit k w all (composed_with k before c) cs
    (all_more (fits.kind_fits k.types) before.kinds (kinds_within k.types (kind_of_component k c)) h
    (within_fit k.types (kind_of_component k c) all (kinds_there k c.type_name.text (visible k c.type_name.text) c.initial (visible_fits k w c.type_name.text))))

-- what a record type is made of before its first component: nothing, or a parent part
pub data IsBegun : Composition → Type 0 where
  by_none : IsBegun no_components
  by_parent : (limited : Bool) → IsBegun (with_parent limited)

begun_kinds : (types : List TypeForm) (before : Composition) → IsBegun before → list_all (fits.kind_fits types) before.kinds ≡ true
begun_kinds types before by_none = refl
begun_kinds types before (by_parent limited) = refl

begun_laid : (types : List TypeForm) (before : Composition) → IsBegun before → AreLaidOut types 0 before.parts before.kinds
begun_laid types before by_none = refl
begun_laid types before (by_parent limited) = (refl, [], refl, refl)

begun_has : (P : ℕ → Type 0) (before : Composition) → IsBegun before → OfParts (RecordHas P) before.parts
begun_has P before by_none = λ i c is. absurd (cc is)
begun_has P before (by_parent limited) = parent_has
  where
    parent_has : (i : ℕ) (c : PartForm) → slice_get (parent_part ∷ []) i ≡ Some c → RecordHas P c.kind
    parent_has zero c is = let same : parent_part ≡ c = cc is in subst (λ (d : PartForm). RecordHas P d.kind) same tt
    parent_has (suc i) c is = absurd (cc is)

begun_order : (types : List TypeForm) (before : Composition) → IsBegun before → fits.parts_in_order types before.controlled 0 before.parts ≡ true
begun_order types before by_none = refl
begun_order types before (by_parent limited) = refl

begun_first : (before : Composition) → IsBegun before → fits.parent_first before.parts ≡ true
begun_first before by_none = refl
begun_first before (by_parent limited) = refl

-- its components lie one behind the other, and so do its controlled parts
composed_laid : (k : Known) (before : Composition) (cs : List ComponentTree) → AreLaidOut k.types 0 before.parts before.kinds → AreLaidOut k.types 0 (composed k before cs).parts (composed k before cs).kinds
unfolding component_meant
composed_laid k before [] h = h
composed_laid k before (c ∷ cs) h =
    composed_laid k (composed_with k before c) cs
    (laid_more k.types 0 before.parts before.kinds (component_meant k (length before.kinds) before.controlled c) h (omega arith))

composed_order : (k : Known) (before : Composition) (cs : List ComponentTree) → fits.parts_in_order k.types before.controlled 0 before.parts ≡ true → fits.parts_in_order k.types (composed k before cs).controlled 0 (composed k before cs).parts ≡ true
unfolding component_meant
composed_order k before [] h = h
composed_order k before (c ∷ cs) h =
    composed_order k (composed_with k before c) cs
    (order_last k.types before.controlled 0 before.parts (component_meant k (length before.kinds) before.controlled c) h refl)

-- only the first of them may be a parent part
no_parent : (k : Known) (o : Option Entity) (initial : Option StaticTree) → fits.is_parent (kind_in o k initial) ≡ false
no_parent k (Some (entity.Access t)) initial = refl
no_parent k (Some (entity.Record t size)) initial = refl
no_parent k (Some entity.Integer) initial = refl
no_parent k (Some entity.Boolean) initial = refl
no_parent k (Some e) initial = refl
no_parent k None initial = refl

composed_first : (k : Known) (before : Composition) (cs : List ComponentTree) → fits.parent_first before.parts ≡ true → fits.parent_first (composed k before cs).parts ≡ true
unfolding component_meant
composed_first k before [] h = h
composed_first k before (c ∷ cs) h =
    composed_first k (composed_with k before c) cs
    (first_last before.parts (component_meant k (length before.kinds) before.controlled c) h (no_parent k (visible k c.type_name.text) c.initial))

-- what each of its components is
composed_all : (k : Known) (P : PartKind → Type 0) → ((c : ComponentTree) → P (kind_of_component k c)) → (before : Composition) (cs : List ComponentTree) → OfParts P before.parts → OfParts P (composed k before cs).parts
unfolding component_meant
composed_all k P w before [] h = h
composed_all k P w before (c ∷ cs) h =
    composed_all k P w (composed_with k before c) cs
    (each_more (λ (d : PartForm). P d.kind) before.parts (component_meant k (length before.kinds) before.controlled c) h (w c))

-- a record among them is of the type that a name stands for
pub component_has : (k : Known) (P : ℕ → Type 0) → ((text : List ℕ) (t : TypeNo) (size : ℕ) → visible k text ≡ Some (entity.Record t size) → P t.0) → (c : ComponentTree) → RecordHas P (kind_of_component k c)
component_has k P w c = by_entity (visible k c.type_name.text) refl
  where
    by_entity : (o : Option Entity) → visible k c.type_name.text ≡ o → RecordHas P (kind_in o k c.initial)
    by_entity (Some (entity.Record t size)) is = w c.type_name.text t size is
    by_entity (Some e) is = tt
    by_entity None is = tt

pub made_has : (k : Known) (P : ℕ → Type 0) → ((text : List ℕ) (t : TypeNo) (size : ℕ) → visible k text ≡ Some (entity.Record t size) → P t.0) → (before : Composition) (cs : List ComponentTree) → IsBegun before → OfParts (RecordHas P) (composed k before cs).parts
made_has k P w before cs begun = composed_all k (RecordHas P) (component_has k P w) before cs (begun_has P before begun)

pub record_visible : (k : Known) → PartsFit k.types k.variables (parts k) → (text : List ℕ) (t : TypeNo) (size : ℕ) → visible k text ≡ Some (entity.Record t size) → fits.is_record k.types t.0 ≡ true
record_visible k w text t size is = let f = visible_fits k w text (entity.Record t size) is in record_is k.types t.0 text f.0 f.1 f.2 f.3

pub made_laid : (k : Known) (name : List ℕ) (final : Option Finalization) (before : Composition) (cs : List ComponentTree) → IsBegun before → PartsFit k.types k.variables (parts k) → IsLaid k.types (record_of name (composed k before cs).parts (composed k before cs).kinds final)
made_laid k name final before cs begun w =
    (composed_laid k before cs (begun_laid k.types before begun), made_has k (λ t. fits.is_record k.types t ≡ true) (record_visible k w) before cs begun)

pub made_fit : (k : Known) (before : Composition) (cs : List ComponentTree) → IsBegun before → PartsFit k.types k.variables (parts k) → list_all (fits.type_fits k.types) k.types ≡ true → list_all (fits.kind_fits k.types) (composed k before cs).kinds ≡ true
made_fit k before cs begun w all = composed_fit k w all before cs (begun_kinds k.types before begun)

pub made_order : (k : Known) (before : Composition) (cs : List ComponentTree) → IsBegun before → fits.parts_in_order k.types (composed k before cs).controlled 0 (composed k before cs).parts ≡ true
made_order k before cs begun = composed_order k before cs (begun_order k.types before begun)

-- and its controlled parts are those that it says
pub made_counted : (k : Known) (before : Composition) (cs : List ComponentTree) → IsBegun before → list_all (fits.type_fits k.types) k.types ≡ true → k.controlled ≡ fits.numbered_types k.types → SaysParts k.types (composed k before cs).parts (finalization_made k.controlled (composed k before cs))
made_counted k before cs begun all next =
    let made = composed k before cs in (
      subst (λ (n : ℕ). IsNext n (finalization_made k.controlled made)) next (made_next k.controlled made),
      composed_first k before cs (begun_first before begun),
      made_says k.types k.controlled made all next (made_order k before cs begun),
      made_overrides k.controlled made,
    )

-- a record type that is found is the one that the name stands for
type_is : (e : Entity) (t : TypeNo) (size : ℕ) → type_in (Some e) ≡ Some (entity.Record t size) → Some e ≡ Some (entity.Record t size)
type_is entity.Integer t size is = absurd (cc is)
type_is entity.Boolean t size is = absurd (cc is)
type_is (entity.Record u n) t size is = is
type_is (entity.Access u) t size is = absurd (cc is)
type_is e t size is = absurd (cc is)

name_is : (b c : Bool) (o : Option Entity) (t : TypeNo) (size : ℕ) → cond b None (cond c (type_in o) None) ≡ Some (entity.Record t size) → o ≡ Some (entity.Record t size)
name_is true c o t size is = absurd (cc is)
name_is false false o t size is = absurd (cc is)
name_is false true None t size is = absurd (cc is)
name_is false true (Some e) t size is = type_is e t size is

pub full_visible : (k : Known) (name : NameTree) (t : TypeNo) (size : ℕ) → object_type_found k name ≡ Some (entity.Record t size) → visible k name.first.text ≡ Some (entity.Record t size)
unfolding object_type_found
full_visible k name t size is = name_is (is_library_root name.first.text) (is_empty name.rest) (visible k name.first.text) t size is

-- a record type that a name stands for is there, and has the name
abbrev pub IsRecordNamed : List TypeForm → List ℕ → Option TypeNo → Type 0
IsRecordNamed types text None = Unit {0}
IsRecordNamed types text (Some t) = (ps : List PartForm) × (cs : List ComponentKind) × (final : Option Finalization) × (slice_get types t.0 ≡ Some (record_of text ps cs final))

record_one : (types : List TypeForm) (variables : List VariableForm) (text : List ℕ) (e : Entity) → EntityFits types variables text e → IsRecordNamed types text (record_in (Some e))
record_one types variables text (entity.Incomplete t) f = ([], [], None, f)
record_one types variables text (entity.Record t size) f = f
record_one types variables text e f = tt

record_named : (types : List TypeForm) (variables : List VariableForm) (text : List ℕ) (o : Option Entity) → ((e : Entity) → o ≡ Some e → EntityFits types variables text e) → IsRecordNamed types text (record_in o)
record_named types variables text (Some e) w = record_one types variables text e (w e refl)
record_named types variables text None w = tt

pub found_record : (k : Known) (name : Ident) → PartsFit k.types k.variables (parts k) → IsRecordNamed k.types name.text (record_found k name)
unfolding record_found
found_record k name w = record_named k.types k.variables name.text (visible k name.text) (visible_fits k w name.text)

-- the access type of an instance is there
abbrev pub IsAccessIn : List TypeForm → Option TypeNo → Type 0
IsAccessIn types None = Unit {0}
IsAccessIn types (Some t) = fits.is_access types t.0 ≡ true

access_if_fits : (types : List TypeForm) (b : Bool) (t : TypeNo) → fits.is_access types t.0 ≡ true → IsAccessIn types (access_if b t)
access_if_fits types true t e = e
access_if_fits types false t e = tt

access_one : (types : List TypeForm) (variables : List VariableForm) (text : List ℕ) (e : Entity) (r : Option TypeNo) → EntityFits types variables text e → IsAccessIn types (access_in (Some e) types r)
access_one types variables text (entity.Access t) r f = access_if_fits types (designates_if_known types t.0 r) t (access_is types t.0 text f.0 f.1 f.2)
access_one types variables text e r f = tt

access_named : (types : List TypeForm) (variables : List VariableForm) (text : List ℕ) (o : Option Entity) (r : Option TypeNo) → ((e : Entity) → o ≡ Some e → EntityFits types variables text e) → IsAccessIn types (access_in o types r)
access_named types variables text (Some e) r w = access_one types variables text e r (w e refl)
access_named types variables text None r w = tt

pub found_access : (k : Known) (name : Ident) (r : Option TypeNo) → PartsFit k.types k.variables (parts k) → IsAccessIn k.types (freed_found k name r)
unfolding freed_found
found_access k name r w = access_named k.types k.variables name.text (visible k name.text) r (visible_fits k w name.text)

-- an access type that designates what is wanted is one that has the name
pub one_of_those : (types : List TypeForm) (o : Option Entity) (r : Option TypeNo) (es : List DeclarationForm) (spot : Spot) → Quiet (one_instance (access_type_in o) es spot) → Quiet (one_instance (access_in o types r) es spot)
one_of_those types None r es spot q = tt
one_of_those types (Some (entity.Access t)) r es spot q = by_test (designates_if_known types t.0 r) q
  where
    by_test : (b : Bool) → Quiet (one_instance (Some t) es spot) → Quiet (one_instance (access_if b t) es spot)
    by_test true q = q
    by_test false q = tt
one_of_those types (Some e) r es spot q = tt

-- what the object of a declaration holds is there
abbrev pub IsKindIn : List TypeForm → Option VariableKind → Type 0
IsKindIn types None = Unit {0}
IsKindIn types (Some kind) = fits.variable_kind_fits types kind ≡ true

type_one : (types : List TypeForm) (variables : List VariableForm) (text : List ℕ) (e : Entity) → EntityFits types variables text e → IsKindIn types (kind_of (type_in (Some e)))
type_one types variables text entity.Integer f = refl
type_one types variables text entity.Boolean f = refl
type_one types variables text (entity.Access t) f = access_is types t.0 text f.0 f.1 f.2
type_one types variables text e f = tt

type_named : (types : List TypeForm) (variables : List VariableForm) (text : List ℕ) (b c : Bool) (o : Option Entity) → ((e : Entity) → o ≡ Some e → EntityFits types variables text e) → IsKindIn types (kind_of (cond b None (cond c (type_in o) None)))
type_named types variables text true c o w = tt
type_named types variables text false false o w = tt
type_named types variables text false true None w = tt
type_named types variables text false true (Some e) w = type_one types variables text e (w e refl)

pub found_type : (k : Known) (name : NameTree) → PartsFit k.types k.variables (parts k) → IsKindIn k.types (kind_of (object_type_found k name))
unfolding object_type_found
found_type k name w = type_named k.types k.variables name.first.text (is_library_root name.first.text) (is_empty name.rest) (visible k name.first.text) (visible_fits k w name.first.text)
