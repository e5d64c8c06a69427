-- A type that is declared or completed leaves what is known in order.

use Rattle.std.proofs.Common.{◌≡◌, ◌∙◌, ℕ, ◌<◌, ◌≤◌, true, false, List, [], ◌∷◌, ◌++◌, length, refl, sym, ap, zero, suc, arith}
use Rattle.std.specs.Prelude.{Option, Some, None, bytes_eq}
use Rattle.std.specs.List.{list_all, slice_get, slice_set}
use Rattle.ada_program.specs.declared.program.ComponentKind.{ComponentKind}
use Rattle.ada_program.specs.declared.program.Finalization.{Finalization}
use Rattle.ada_program.specs.declared.program.PoolNo.{PoolNo}
use Rattle.ada_program.specs.declared.program.TypeNo.{TypeNo}
use Rattle.ada_program.specs.ProgramForm.{PartForm, TypeForm, record_of, access_to, object_of, pool_number, VariableForm}
use Rattle.ada_program.specs.WellFormed as fits
use Rattle.ada_program.specs.WellFormed.{Profile}
use Rattle.ada_tree.specs.Declarations.{AspectTree}
use Rattle.ada_tree.specs.Names.{Ident, NameTree}
use Rattle.ada_tree.specs.Records.{ComponentTree, RecordTree}
use Rattle.ada_resolve.specs.declared.fault.NameRule.TheVariants.{WrongType}
use Rattle.ada_resolve.specs.declared.scope.Entity.{Entity}
use Rattle.ada_resolve.specs.declared.scope.Entity.TheVariants as entity
use Rattle.ada_resolve.specs.Known.{Known, Named, Part, named, entered, declared, parts, no_body_yet}
use Rattle.ada_resolve.specs.Pools.{aspect_found}
use Rattle.ada_resolve.specs.Derived.{limited_parent, with_parent}
use Rattle.ada_resolve.specs.Records.{Composition, components_written, composed, counted, finalization_made, no_components, record_made, record_type_known, with_record}
use Rattle.ada_resolve.specs.Types.{incomplete_of, completed_type, record_found, is_designated, number_of, defined, incomplete_known, completion_remark, access_defined, access_known, with_definition}
use Rattle.ada_resolve.proofs.WellFormed.Operations.{HaveOperations, callables, have_more, have_set}
use Rattle.ada_resolve.proofs.WellFormed.Remarks.{Quiet, quiet_if}
use Rattle.ada_resolve.proofs.WellFormed.Tables as tables
use Rattle.ada_resolve.proofs.WellFormed.Tables.{all_more, all_set, get_more, get_last, get_set, get_other, keeps_more, record_more, keeps_set, record_set, record_other, plains_without, plains_kept, type_both, components_kept, object_kind_kept, variable_kept, all_weaker, both_parts}
use Rattle.ada_resolve.proofs.WellFormed.Laid.{AreRecordsLaid, IsLaid, IsUnused, Avoids, records_laid_more, records_laid_set, new_unused, unused_more, unused_set}
use Rattle.ada_resolve.proofs.WellFormed.Numbered.{OneMore, one_behind, one_replaced, IsNext, counted_more, counted_set, alike_more, alike_set, SaysParts, plains, types_kept, types_stay, record_counted, counts_on}
use Rattle.ada_resolve.proofs.WellFormed.Exceptions.{RaisedFits, raised_entered}
use Rattle.ada_resolve.proofs.WellFormed.Names.{EntityFits, TypesFit, variables_behind, PartsFit, all_entered, names_entered, no_text, laid_in}
use Rattle.ada_resolve.proofs.WellFormed.Types.{record_is, IsBegun, by_none, by_parent, made_fit, made_has, made_laid, made_counted, IsRecordNamed, found_record}
use Rattle.ada_resolve.proofs.Standing.Housed.{aspect_pool_known}
use Rattle.ada_resolve.proofs.Standing.Order.{IsBefore, PartsBefore, IsCalled, Sound, IsSettled, visible_settled}

-- the name of a type; a record object's type has none
abbrev form_name : TypeForm → List ℕ
form_name (record_of name ps cs final) = name
form_name (access_to name d pool) = name
form_name (object_of r) = []

-- a type of this name is declared or completed, behind so many of the parts around
pub record Grown (n : ℕ) (text : List ℕ) (types more : List TypeForm) : Type 0 where
  pub kept : tables.Keeps types more
  pub keeps : (t : ℕ) (form : TypeForm) → (form_name form ≡ text → ⊥) → slice_get types t ≡ Some form → slice_get more t ≡ Some form
  pub before : (t : ℕ) (form : TypeForm) → t < n → slice_get types t ≡ Some form → slice_get more t ≡ Some form
  pub longer : length types ≤ length more
  pub types_fit : list_all (fits.type_fits more) more ≡ true
  pub operations : (callable : List Profile) → HaveOperations types callable → HaveOperations more callable
  pub laid : AreRecordsLaid more

entity_kept : (n : ℕ) (types more : List TypeForm) (variables : List VariableForm) (text other : List ℕ) → Grown n text types more → (other ≡ text → ⊥) → (e : Entity) → EntityFits types variables other e → EntityFits more variables other e
entity_kept n types more variables text other g ne (entity.Incomplete t) f = g.keeps t.0 (record_of other [] [] None) ne f
entity_kept n types more variables text other g ne (entity.Record t size) f = (f.0, f.1, f.2, g.keeps t.0 (record_of other f.0 f.1 f.2) ne f.3)
entity_kept n types more variables text other g ne (entity.Access t) f = (f.0, f.1, g.keeps t.0 (access_to other f.0 f.1) ne f.2)
entity_kept n types more variables text other g ne (entity.Instance t) f = g.kept.0 t.0 f
entity_kept n types more variables text other g ne (entity.Variable x kind) f = (f.0, object_kind_kept types more g.kept kind f.1)
entity_kept n types more variables text other g ne (entity.Parameter x kind) f = (f.0, object_kind_kept types more g.kept kind f.1)
entity_kept n types more variables text other g ne e f = f

-- what a name of a part around stands for stays, whatever the name
outer_kept : (n : ℕ) (types more : List TypeForm) (variables : List VariableForm) (text other : List ℕ) → Grown n text types more → (e : Entity) → IsBefore n e → EntityFits types variables other e → EntityFits more variables other e
outer_kept n types more variables text other g (entity.Incomplete t) b f = g.before t.0 (record_of other [] [] None) b f
outer_kept n types more variables text other g (entity.Record t size) b f = (f.0, f.1, f.2, g.before t.0 (record_of other f.0 f.1 f.2) b f.3)
outer_kept n types more variables text other g (entity.Access t) b f = (f.0, f.1, g.before t.0 (access_to other f.0 f.1) b f.2)
outer_kept n types more variables text other g (entity.Instance t) b f = g.kept.0 t.0 f
outer_kept n types more variables text other g (entity.Variable x kind) b f = (f.0, object_kind_kept types more g.kept kind f.1)
outer_kept n types more variables text other g (entity.Parameter x kind) b f = (f.0, object_kind_kept types more g.kept kind f.1)
outer_kept n types more variables text other g e b f = f

outers_kept : (n : ℕ) (types more : List TypeForm) (variables : List VariableForm) (text : List ℕ) → Grown n text types more → (ps : List Part) → PartsBefore n ps → PartsFit types variables ps → PartsFit more variables ps
outers_kept n types more variables text g [] b f = (g.laid, g.types_fit)
outers_kept n types more variables text g (p ∷ ps) b f =
    (λ t x is. outer_kept n types more variables text t g x (b.0 t x is) (f.0 t x is), outers_kept n types more (variables_behind p.around variables) text g ps b.1 f.1)

-- an incomplete type is one behind so many, and no component is a record of it
abbrev pub IsOwn : ℕ → List TypeForm → Entity → Type 0
IsOwn n types (entity.Incomplete t) = (n ≤ t.0) × IsUnused types t.0
IsOwn n types e = Unit {0}

own_of : (n : ℕ) (types : List TypeForm) (x : Entity) → ((t : TypeNo) → x ≡ entity.Incomplete t → (n ≤ t.0) × IsUnused types t.0) → IsOwn n types x
own_of n types (entity.Incomplete t) w = w t refl
own_of n types x w = tt

own_entered : (n : ℕ) (types : List TypeForm) (ns : List Named) (text : List ℕ) (e : Entity) → IsOwn n types e → ((other : List ℕ) (t : TypeNo) → (other ≡ text → ⊥) → named other ns ≡ Some (entity.Incomplete t) → (n ≤ t.0) × IsUnused types t.0) → (other : List ℕ) (t : TypeNo) → named other (entered text e ns) ≡ Some (entity.Incomplete t) → (n ≤ t.0) × IsUnused types t.0
own_entered n types ns text e own old other t is =
    all_entered (λ u x. IsOwn n types x) ns text e own (λ u x ne there. own_of n types x (λ v same. old u v ne (there ∙ ap (λ y. Some y) same))) other (entity.Incomplete t) is

-- an incomplete type is one behind so many
abbrev pub IsBehind : ℕ → Entity → Type 0
IsBehind n (entity.Incomplete t) = n ≤ t.0
IsBehind n e = Unit {0}

behind_of : (n : ℕ) (x : Entity) → ((t : TypeNo) → x ≡ entity.Incomplete t → n ≤ t.0) → IsBehind n x
behind_of n (entity.Incomplete t) w = w t refl
behind_of n x w = tt

-- incomplete types of the part of other names are those of no component still
abbrev pub OthersUnused : Known → List ℕ → List TypeForm → Type 0
OthersUnused k text more = no_body_yet k ≡ true → (other : List ℕ) (t : TypeNo) → (other ≡ text → ⊥) → named other k.here.names ≡ Some (entity.Incomplete t) → IsUnused more t.0

-- the name stands for that, where a type of this name is declared or completed
pub type_sound : (k : Known) (text : List ℕ) (e : Entity) (more : List TypeForm) (n : ℕ) → Sound k → Grown k.here.first_type text k.types more → list_all (fits.has_known_pool (length k.pools)) more ≡ true → OthersUnused k text more → EntityFits more k.variables text e → RaisedFits k.exceptions text e → IsCalled (length k.bodies) (length k.pools) e → IsBehind k.here.first_type e → (no_body_yet k ≡ true → IsOwn k.here.first_type more e) → n ≡ fits.numbered_types more → Sound (declared (record k { types = more; controlled = n }) text e)
type_sound k text e more n w g housed unused f r y behind own controlled = record {
  types_fit = g.types_fit;
  operations = g.operations (callables k.bodies) w.operations;
  variables_fit = all_weaker (fits.variable_fits k.types) (fits.variable_fits more) (variable_kept k.types more g.kept) k.variables w.variables_fit;
  names = (
    names_entered more k.variables k.here.names text e f (λ t x ne is. entity_kept k.here.first_type k.types more k.variables text t g ne x (w.names.0 t x is)),
    outers_kept k.here.first_type k.types more (variables_behind k.here.around k.variables) text g k.outer w.bounds.outer_before w.names.1,
  );
  exceptions = raised_entered k.exceptions k.here.names k.outer text e r w.exceptions;
  called = (all_entered (λ t x. IsCalled (length k.bodies) (length k.pools) x) k.here.names text e y (λ t x ne is. w.called.0 t x is), w.called.1);
  housed = housed;
  controlled = controlled;
  sized = w.sized;
  bounds = record {
    first = let a = w.bounds.first in let b = g.longer in omega arith;
    first_variable = w.bounds.first_variable;
    modes = w.bounds.modes;
    first_body = w.bounds.first_body;
    open_own = λ other t is. behind_here other (entity.Incomplete t) is;
    open_unused = λ none other t is. (open_here none other t is).1;
    outer_before = w.bounds.outer_before;
  };
}
  where
    behind_here : (other : List ℕ) (x : Entity) → named other (entered text e k.here.names) ≡ Some x → IsBehind k.here.first_type x
    behind_here = all_entered (λ u x. IsBehind k.here.first_type x) k.here.names text e behind
        (λ u x ne there. behind_of k.here.first_type x (λ v same. w.bounds.open_own u v (there ∙ ap (λ y. Some y) same)))

    open_here : no_body_yet k ≡ true → (other : List ℕ) (t : TypeNo) → named other (entered text e k.here.names) ≡ Some (entity.Incomplete t) → (k.here.first_type ≤ t.0) × IsUnused more t.0
    open_here none = own_entered k.here.first_type more k.here.names text e (own none) (λ other t ne is. (w.bounds.open_own other t is, unused none other t ne is))

-- nothing is declared but a name
pub name_sound : (k : Known) (text : List ℕ) (e : Entity) → Sound k → EntityFits k.types k.variables text e → RaisedFits k.exceptions text e → IsCalled (length k.bodies) (length k.pools) e → IsBehind k.here.first_type e → (no_body_yet k ≡ true → IsOwn k.here.first_type k.types e) → Sound (declared k text e)
name_sound k text e w f r y behind own = type_sound k text e k.types k.controlled w same w.housed (λ none other t ne is. w.bounds.open_unused none other t is) f r y behind own w.controlled
  where
    same : Grown k.here.first_type text k.types k.types
    same = record { kept = (λ t is. is, λ t is. is); keeps = λ t form ne is. is; before = λ t form b is. is; longer = omega arith; types_fit = w.types_fit; operations = λ callable h. h; laid = laid_in k.types k.variables (parts k) w.names }

-- one more type of any name
pub one_longer : (types : List TypeForm) (form : TypeForm) → length types ≤ length (types ++ form ∷ [])
one_longer [] form = omega arith
one_longer (x ∷ types) form = let h = one_longer types form in omega arith

grown_more : (n : ℕ) (text : List ℕ) (types : List TypeForm) (form : TypeForm) → list_all (fits.type_fits types) types ≡ true → fits.type_fits (types ++ form ∷ []) form ≡ true → IsNext (fits.numbered_types types) (fits.finalization_in (Some form)) → fits.overrides_nothing (fits.finalization_in (Some form)) ≡ true → AreRecordsLaid types → IsLaid types form → Grown n text types (types ++ form ∷ [])
grown_more n text types form all own next inherits laid lies = record {
  kept = keeps_more types form;
  keeps = λ t x ne is. get_more types form t x is;
  before = λ t x b is. get_more types form t x is;
  longer = one_longer types form;
  types_fit = all_more (fits.type_fits (types ++ form ∷ [])) types (form ∷ [])
      (types_kept types (types ++ form ∷ []) (keeps_more types form) (record_more types form) (counted_more types form laid next) all)
      (both_parts (fits.type_fits (types ++ form ∷ []) form) true own refl);
  operations = λ callable h. have_more types form callable inherits h;
  laid = records_laid_more types form laid lies;
}

-- a type that is replaced
pub length_set : (types : List TypeForm) (t : ℕ) (form : TypeForm) → length (slice_set types t form) ≡ length types
length_set [] t form = refl
length_set (x ∷ types) zero form = refl
length_set (x ∷ types) (suc t) form = let h = length_set types t form in omega arith

-- the types of an incomplete type's name
grown_set : (n : ℕ) (text : List ℕ) (types : List TypeForm) (t : ℕ) (form : TypeForm) → n ≤ t → slice_get types t ≡ Some (record_of text [] [] None) → list_all (fits.type_fits (slice_set types t form)) (slice_set types t form) ≡ true → fits.overrides_nothing (fits.finalization_in (Some form)) ≡ true → IsUnused types t → AreRecordsLaid types → Avoids t form → IsLaid types form → Grown n text types (slice_set types t form)
grown_set n text types t form behind is all inherits unused laid avoids lies = record {
  kept = keeps_set types t form (record_is types t text [] [] None is);
  keeps = λ u x ne there. get_other types t u form (λ same. ne (same_name x (sym there ∙ (ap (λ v. slice_get types v) (sym same) ∙ is)))) ∙ there;
  before = λ u x b there. get_other types t u form (λ same. apart u b same) ∙ there;
  longer = let h = length_set types t form in omega arith;
  types_fit = all;
  operations = λ callable h. have_set types t (record_of text [] [] None) form callable is refl inherits h;
  laid = records_laid_set types t form unused laid avoids lies;
}
  where
    same_name : (x : TypeForm) → Some x ≡ Some (record_of text [] [] None) → form_name x ≡ text
    same_name (record_of name ps cs final) e = cc e
    same_name (access_to name d pool) e = absurd (cc e)
    same_name (object_of r) e = absurd (cc e)

    apart : (u : ℕ) → u < n → t ≡ u → ⊥
    apart u b same = omega (arith, behind, b, same)

-- what a declaration completes is an incomplete type of its name, behind so many, and no component is a record of it
abbrev Completes : ℕ → List TypeForm → List ℕ → Option TypeNo → Type 0
Completes n types text None = Unit {0}
Completes n types text (Some t) = (n ≤ t.0) × (slice_get types t.0 ≡ Some (record_of text [] [] None)) × IsUnused types t.0

incomplete_one : (n : ℕ) (types : List TypeForm) (variables : List VariableForm) (text : List ℕ) (e : Entity) → IsOwn n types e → EntityFits types variables text e → Completes n types text (incomplete_of (Some e))
incomplete_one n types variables text (entity.Incomplete t) own f = (own.0, f, own.1)
incomplete_one n types variables text e own f = tt

incomplete_fits : (n : ℕ) (types : List TypeForm) (variables : List VariableForm) (text : List ℕ) (o : Option Entity) → ((e : Entity) → o ≡ Some e → IsOwn n types e) → ((e : Entity) → o ≡ Some e → EntityFits types variables text e) → Completes n types text (incomplete_of o)
incomplete_fits n types variables text (Some e) own w = incomplete_one n types variables text e (own e refl) (w e refl)
incomplete_fits n types variables text None own w = tt

completes : (k : Known) (name : Ident) → no_body_yet k ≡ true → Sound k → Completes k.here.first_type k.types name.text (completed_type k name)
unfolding completed_type
completes k name none w =
    incomplete_fits k.here.first_type k.types k.variables name.text (named name.text k.here.names)
    (λ e is. own_of k.here.first_type k.types e (λ t same. let there = is ∙ ap (λ y. Some y) same in (w.bounds.open_own name.text t there, w.bounds.open_unused none name.text t there)))
    (w.names.0 name.text)

-- so it is with the type that is completed
abbrev CompletedHas : (ℕ → Type 0) → Option TypeNo → Type 0
CompletedHas P None = Unit {0}
CompletedHas P (Some t) = P t.0

completed_has : (k : Known) (name : Ident) (P : ℕ → Type 0) → ((t : TypeNo) → named name.text k.here.names ≡ Some (entity.Incomplete t) → P t.0) → CompletedHas P (completed_type k name)
unfolding completed_type
completed_has k name P w = by_entity (named name.text k.here.names) refl
  where
    by_entity : (o : Option Entity) → named name.text k.here.names ≡ o → CompletedHas P (incomplete_of o)
    by_entity (Some (entity.Incomplete t)) is = w t is
    by_entity (Some e) is = tt
    by_entity None is = tt

-- incomplete types of other names are those of no component of a type that is declared or completed
unused_defined : (types : List TypeForm) (c : Option TypeNo) (form : TypeForm) (t : ℕ) → IsUnused types t → Avoids t form → IsUnused (defined c form types) t
unused_defined types None form t unused avoids = unused_more types form t unused avoids
unused_defined types (Some u) form t unused avoids = unused_set types u.0 form t unused avoids

-- a type that is declared or completed has a pool that is there, if any
pub housed_defined : (n : ℕ) (types : List TypeForm) (c : Option TypeNo) (form : TypeForm) → list_all (fits.has_known_pool n) types ≡ true → fits.has_known_pool n form ≡ true → list_all (fits.has_known_pool n) (defined c form types) ≡ true
housed_defined n types None form all own = all_more (fits.has_known_pool n) types (form ∷ []) all (both_parts (fits.has_known_pool n form) true own refl)
housed_defined n types (Some t) form all own = all_set (fits.has_known_pool n) types t.0 form all own

-- `type T;`
pub incomplete_sound : (k : Known) (name : Ident) → Sound k → Sound (incomplete_known k name)
incomplete_sound k name w =
    let form = record_of name.text [] [] None in
    let laid = laid_in k.types k.variables (parts k) w.names in
    type_sound k name.text (entity.Incomplete (record { 0 = length k.types })) (k.types ++ form ∷ []) k.controlled w
    (grown_more k.here.first_type name.text k.types form w.types_fit refl tt refl laid (refl, λ i c is. absurd (cc is)))
    (housed_defined (length k.pools) k.types None form w.housed refl)
    (λ none other t ne is. unused_more k.types form t.0 (w.bounds.open_unused none other t is) (λ i c is. absurd (cc is)))
    (get_last k.types form) tt tt w.bounds.first (λ none. (w.bounds.first, unused_more k.types form (length k.types) (new_unused k.types laid) (λ i c is. absurd (cc is))))
    (let same = w.controlled in let all = (one_behind k.types form).numbered in omega (arith, same, all))

-- a record type, which is declared or completed
record_one : (types : List TypeForm) (n : ℕ) (text : List ℕ) (c : Option TypeNo) (form : TypeForm) → Completes n types text c → OneMore types (defined c form types) (fits.finalization_in (Some form))
record_one types n text None form h = one_behind types form
record_one types n text (Some t) form h = one_replaced types t.0 (record_of text [] [] None) form h.1 refl

record_defined : (n : ℕ) (types : List TypeForm) (variables : List VariableForm) (text : List ℕ) (ps : List PartForm) (cs : List ComponentKind) (final : Option Finalization) (size : ℕ) (c : Option TypeNo) → Completes n types text c → list_all (fits.type_fits types) types ≡ true → list_all (fits.kind_fits types) cs ≡ true → SaysParts types ps final → AreRecordsLaid types → IsLaid types (record_of text ps cs final) → CompletedHas (λ t. Avoids t (record_of text ps cs final)) c → Grown n text types (defined c (record_of text ps cs final) types) × EntityFits (defined c (record_of text ps cs final) types) variables text (entity.Record (number_of c types) size)
record_defined n types variables text ps cs final size None h all own says laid lies avoids =
    let form = record_of text ps cs final in
    let more = types ++ form ∷ [] in (
      grown_more n text types form all
          (type_both more form (components_kept types more (keeps_more types form) cs own)
          (record_counted types more text ps cs final all (one_behind types form) (alike_more types form form lies) says))
          says.0 says.3 laid lies,
      (ps, cs, final, get_last types form),
    )
record_defined n types variables text ps cs final size (Some t) h all own says laid lies avoids =
    let form = record_of text ps cs final in
    let more = slice_set types t.0 form in
    let keeps : tables.Keeps types more = keeps_set types t.0 form (record_is types t.0 text [] [] None h.1) in (
      grown_set n text types t.0 form h.0 h.1
          (all_set (fits.type_fits more) types t.0 form
          (types_kept types more keeps (record_set types t.0 text ps cs final) (counted_set types t.0 (record_of text [] [] None) form h.1 refl h.2 says.0) all)
          (type_both more form (components_kept types more keeps cs own)
          (record_counted types more text ps cs final all (one_replaced types t.0 (record_of text [] [] None) form h.1 refl) (alike_set types t.0 form form avoids) says)))
          says.3 h.2 laid avoids lies,
      (ps, cs, final, get_set types t.0 (record_of text [] [] None) form h.1),
    )

-- no component of a new record type is a record of an incomplete type of its part
made_avoids : (k : Known) (text other : List ℕ) (t : TypeNo) (final : Option Finalization) (before : Composition) (cs : List ComponentTree) → IsBegun before → no_body_yet k ≡ true → Sound k → named other k.here.names ≡ Some (entity.Incomplete t) → Avoids t.0 (record_of text (composed k before cs).parts (composed k before cs).kinds final)
made_avoids k text other t final before cs begun none w is =
    made_has k (λ u. u ≡ t.0 → ⊥) (λ named_so u size there same. visible_settled k named_so u size w there none other t is (sym same)) before cs begun

-- a record type that is made of these components, with a parent part or without one
pub made_sound : (k : Known) (name : Ident) (before : Composition) (cs : List ComponentTree) → IsBegun before → no_body_yet k ≡ true → Sound k → Sound (with_record k name (composed k before cs))
made_sound k name before cs begun none w =
    let made = composed k before cs in
    let c = completed_type k name in
    let final = finalization_made k.controlled made in
    let form = record_made k.controlled name made in
    let h : Completes k.here.first_type k.types name.text c = completes k name none w in
    let done = record_defined k.here.first_type k.types k.variables name.text made.parts made.kinds final made.size c h w.types_fit (made_fit k before cs begun w.names w.types_fit)
    (made_counted k before cs begun w.types_fit w.controlled) (laid_in k.types k.variables (parts k) w.names) (made_laid k name.text final before cs begun w.names)
    (completed_has k name (λ t. Avoids t form) (λ t is. made_avoids k name.text name.text t final before cs begun none w is)) in
    type_sound k name.text (entity.Record (number_of c k.types) made.size) (defined c form k.types) (counted final k.controlled) w done.0 (housed_defined (length k.pools) k.types c form w.housed refl)
    (λ yet other t ne is. unused_defined k.types c form t.0 (w.bounds.open_unused yet other t is) (made_avoids k name.text other t final before cs begun yet w is)) done.1 tt tt tt (λ yet. tt)
    (counts_on k.types (defined c form k.types) final k.controlled (record_one k.types k.here.first_type name.text c form h) w.controlled)

-- `type T is record .. end record;`
pub record_sound : (k : Known) (name : Ident) (definition : RecordTree) → no_body_yet k ≡ true → Sound k → Sound (record_type_known k name definition)
record_sound k name definition none w = made_sound k name no_components (components_written definition) by_none none w

-- `type T is new Ada.Finalization.Controlled with record .. end record;`
pub derived_sound : (k : Known) (name : Ident) (parent : NameTree) (definition : RecordTree) → no_body_yet k ≡ true → Sound k → Sound (with_record k name (composed k (with_parent (limited_parent k parent)) (components_written definition)))
derived_sound k name parent definition none w =
    made_sound k name (with_parent (limited_parent k parent)) (components_written definition) (by_parent (limited_parent k parent)) none w

-- what an access type completes is another type than it designates, and nothing designates it
abbrev MayComplete : List TypeForm → ℕ → Option TypeNo → Type 0
MayComplete types d None = Unit {0}
MayComplete types d (Some t) = (is_designated t.0 types ≡ false) × (t.0 ≡ d → ⊥)

may_complete : (k : Known) (name designated : Ident) (d : TypeNo) (c : Option TypeNo) → Completes k.here.first_type k.types name.text c → IsRecordNamed k.types designated.text (Some d) → Quiet (completion_remark c k name designated) → MayComplete k.types d.0 c
may_complete k name designated d None h r q = tt
may_complete k name designated d (Some t) h r q = (
  quiet_if (is_designated t.0 k.types) name.spot WrongType q.0,
  λ same. no_text designated.text name.text (quiet_if (bytes_eq designated.text name.text) name.spot WrongType q.1)
      (one_name r.0 r.1 r.2 (sym r.3 ∙ (ap (λ v. slice_get k.types v) (sym same) ∙ h.1))),
)
  where
    one_name : (ps : List PartForm) (cs : List ComponentKind) (final : Option Finalization) → Some (record_of designated.text ps cs final) ≡ Some (record_of name.text [] [] None) → designated.text ≡ name.text
    one_name ps cs final e = cc e

access_type_defined : (n : ℕ) (types : List TypeForm) (variables : List VariableForm) (text : List ℕ) (d : ℕ) (pool : Option ℕ) (c : Option TypeNo) → Completes n types text c → MayComplete types d c → fits.is_record types d ≡ true → list_all (fits.type_fits types) types ≡ true → AreRecordsLaid types → Grown n text types (defined c (access_to text d pool) types) × EntityFits (defined c (access_to text d pool) types) variables text (entity.Access (number_of c types))
access_type_defined n types variables text d pool None h m r all laid =
    (grown_more n text types (access_to text d pool) all (record_more types (access_to text d pool) d r) tt refl laid tt, (d, pool, get_last types (access_to text d pool)))
access_type_defined n types variables text d pool (Some t) h m r all laid =
    let more = slice_set types t.0 (access_to text d pool) in
    let keeps : tables.Keeps types more = keeps_set types t.0 (access_to text d pool) (record_is types t.0 text [] [] None h.1) in (
      grown_set n text types t.0 (access_to text d pool) h.0 h.1
          (all_set (fits.type_fits more) types t.0 (access_to text d pool)
          (types_stay types more (counted_set types t.0 (record_of text [] [] None) (access_to text d pool) h.1 refl h.2 tt) all
          (plains_without types more t.0 keeps (λ u ne. record_other types t.0 (access_to text d pool) u ne) types m.0 (λ u r is. h.2 u (object_of r) is) (plains types all)))
          (record_other types t.0 (access_to text d pool) d m.1 r))
          refl h.2 laid tt tt,
      (d, pool, get_set types t.0 (record_of text [] [] None) (access_to text d pool) h.1),
    )

access_sound_at : (k : Known) (name designated : Ident) (o : Option TypeNo) (pool : Option PoolNo) → no_body_yet k ≡ true → Sound k → IsRecordNamed k.types designated.text o → fits.is_known_pool (length k.pools) (pool_number pool) ≡ true → Quiet (completion_remark (completed_type k name) k name designated) → Sound (access_defined k name (completed_type k name) o pool)
access_sound_at k name designated None pool none w r p q = w
access_sound_at k name designated (Some d) pool none w r p q =
    let form = access_to name.text d.0 (pool_number pool) in
    let c = completed_type k name in
    let h : Completes k.here.first_type k.types name.text c = completes k name none w in
    let done = access_type_defined k.here.first_type k.types k.variables name.text d.0 (pool_number pool) c h (may_complete k name designated d c h r q) (record_is k.types d.0 designated.text r.0 r.1 r.2 r.3) w.types_fit (laid_in k.types k.variables (parts k) w.names) in
    let all = (record_one k.types k.here.first_type name.text c form h).numbered in
    let same = w.controlled in
    type_sound k name.text (entity.Access (number_of c k.types)) (defined c form k.types) k.controlled w done.0 (housed_defined (length k.pools) k.types c form w.housed p)
    (λ yet other t ne is. unused_defined k.types c form t.0 (w.bounds.open_unused yet other t is) tt) done.1 tt tt tt (λ yet. tt)
    (omega (arith, all, same))

-- `type A is access T;`
pub access_sound : (k : Known) (name designated : Ident) (aspect : Option AspectTree) → no_body_yet k ≡ true → Sound k → Quiet (completion_remark (completed_type k name) k name designated) → Sound (access_known k name designated aspect)
access_sound k name designated aspect none w q =
    access_sound_at k name designated (record_found k designated) (aspect_found k aspect) none w (found_record k designated w.names) (aspect_pool_known k aspect w) q

-- the type by which a record object is known: one more, which has no name
entity_more : (types : List TypeForm) (variables : List VariableForm) (form : TypeForm) (text : List ℕ) (e : Entity) → EntityFits types variables text e → EntityFits (types ++ form ∷ []) variables text e
entity_more types variables form text (entity.Incomplete t) f = get_more types form t.0 (record_of text [] [] None) f
entity_more types variables form text (entity.Record t size) f = (f.0, f.1, f.2, get_more types form t.0 (record_of text f.0 f.1 f.2) f.3)
entity_more types variables form text (entity.Access t) f = (f.0, f.1, get_more types form t.0 (access_to text f.0 f.1) f.2)
entity_more types variables form text (entity.Instance t) f = (keeps_more types form).0 t.0 f
entity_more types variables form text (entity.Variable x kind) f = (f.0, object_kind_kept types (types ++ form ∷ []) (keeps_more types form) kind f.1)
entity_more types variables form text (entity.Parameter x kind) f = (f.0, object_kind_kept types (types ++ form ∷ []) (keeps_more types form) kind f.1)
entity_more types variables form text e f = f

parts_more : (types : List TypeForm) (variables : List VariableForm) (form : TypeForm) (ps : List Part) → TypesFit (types ++ form ∷ []) → PartsFit types variables ps → PartsFit (types ++ form ∷ []) variables ps
parts_more types variables form [] laid f = laid
parts_more types variables form (p ∷ ps) laid f =
    (λ text e is. entity_more types variables form text e (f.0 text e is), parts_more types (variables_behind p.around variables) form ps laid f.1)

pub object_type_sound : (k : Known) (r : ℕ) → Sound k → fits.is_record k.types r ≡ true → IsSettled k r → Sound (with_definition None (object_of r) k)
object_type_sound k r w is settled =
    let form = object_of r in
    let more = k.types ++ form ∷ [] in
    let g : Grown k.here.first_type [] k.types more =
    grown_more k.here.first_type [] k.types form w.types_fit (record_more k.types form r is) tt refl (laid_in k.types k.variables (parts k) w.names) is in
    record {
      types_fit = g.types_fit;
      operations = g.operations (callables k.bodies) w.operations;
      variables_fit = all_weaker (fits.variable_fits k.types) (fits.variable_fits more) (variable_kept k.types more g.kept) k.variables w.variables_fit;
      names = parts_more k.types k.variables form (parts k) (g.laid, g.types_fit) w.names;
      exceptions = w.exceptions;
      called = w.called;
      housed = housed_defined (length k.pools) k.types None form w.housed refl;
      controlled = let same = w.controlled in let all = (one_behind k.types form).numbered in omega (arith, all, same);
      sized = w.sized;
      bounds = record {
        first = let a = w.bounds.first in let b = g.longer in omega arith;
        first_variable = w.bounds.first_variable;
        modes = w.bounds.modes;
        first_body = w.bounds.first_body;
        open_own = w.bounds.open_own;
        open_unused = λ none text t there. unused_more k.types form t.0 (w.bounds.open_unused none text t there) (λ same. settled none text t there (sym same));
        outer_before = w.bounds.outer_before;
      };
    }
