-- The declaration of an object or of a borrower leaves what is elaborated in order.

use Rattle.std.proofs.Common.{◌≡◌, ◌∙◌, ℕ, ◌+◌, ◌≤◌, true, false, cond, List, [], ◌∷◌, ◌++◌, length, drop, append_assoc, refl, sym, ap, subst, arith, eqb, eq-eqb}
use Rattle.std.specs.Prelude.{Bool, ◌&&◌, Option, Some, None, nat_lt, nat_le, ◌==◌, map}
use Rattle.std.specs.List.{list_all}
use Rattle.std.proofs.lemmas.Bool.{ne_eqb}
use Rattle.ada_program.specs.declared.program.ComponentKind.{ComponentKind}
use Rattle.ada_program.specs.declared.program.ComponentKind.TheVariants as component
use Rattle.ada_program.specs.declared.program.VariableKind.{VariableKind}
use Rattle.ada_program.specs.declared.program.VariableKind.TheVariants as variable
use Rattle.ada_program.specs.declared.program.ScalarType.{ScalarType}
use Rattle.ada_program.specs.declared.program.ScalarType.TheVariants.{Integer, Boolean}
use Rattle.ada_program.specs.declared.program.TypeNo.{TypeNo}
use Rattle.ada_program.specs.Form.{PathForm, RecordPathForm, ExpressionForm, ItemForm, null_item, item_of_path, item_of_value, item_of_record, RightForm, nothing, value_of, allocates, allocates_default, computes, DeclarationForm, creates_pool, collects, declares, declares_record}
use Rattle.ada_tree.specs.Names.{Ident, NameTree}
use Rattle.ada_tree.specs.Expressions.{RightTree}
use Rattle.ada_program.specs.ProgramForm.{TypeForm, object_of, VariableForm}
use Rattle.ada_program.specs.WellFormed as fits
use Rattle.ada_program.specs.WellFormed.{of_variable}
use Rattle.ada_resolve.specs.Borrowers.{borrower_remark, borrower_known}
use Rattle.ada_resolve.specs.declared.scope.Entity.{Entity}
use Rattle.ada_resolve.specs.declared.scope.Entity.TheVariants as entity
use Rattle.ada_resolve.specs.Known.{Known, no_body_yet, parts}
use Rattle.ada_resolve.specs.declared.rights.Held.TheVariants as held
use Rattle.ada_resolve.specs.Rights.{Assigned, a_value, a_whole}
use Rattle.ada_resolve.specs.Objects.{initial_remark, initial_found, initial_items_in, initial_value_in, initial_wanted, object_type_found, held_of, object_remark, initial_source, variable_created, next_record, record_created, created_of, object_known}
use Rattle.ada_resolve.proofs.Names.{map_append}
use Rattle.ada_resolve.proofs.WellFormed.Borrowers.{lent_of, borrower_is}
use Rattle.ada_resolve.proofs.WellFormed.Remarks.{Quiet}
use Rattle.ada_resolve.proofs.WellFormed.Tables.{all_more, both_parts, first_part, second_part, get_last, get_more}
use Rattle.ada_resolve.proofs.WellFormed.Laid.{AreRecordsLaid}
use Rattle.ada_resolve.proofs.WellFormed.Names.{PartsFit, laid_in}
use Rattle.ada_resolve.proofs.WellFormed.Counts.{count_more}
use Rattle.ada_resolve.proofs.WellFormed.Created.{due, accesses_object, makes_known}
use Rattle.ada_resolve.proofs.WellFormed.Forms.{forms_in}
use Rattle.ada_resolve.proofs.WellFormed.Elaborated.{Late, InOrder, late}
use Rattle.ada_resolve.proofs.WellFormed.Growing.{lent_stays, taken_stays, collections_stay, initials_stay, record_stays}
use Rattle.ada_resolve.proofs.WellFormed.Typing.{path_before, typed_before, of_type}
use Rattle.ada_resolve.proofs.WellFormed.Values.{IsSourceFor, right_fits}

kind_last : (variables : List VariableForm) (o : VariableForm) → fits.variable_kind (variables ++ o ∷ []) (length variables) ≡ Some o.kind
kind_last variables o = rw (get_last variables o) refl

borrows_last : (variables : List VariableForm) (o : VariableForm) → fits.is_borrower (variables ++ o ∷ []) (length variables) ≡ o.borrows
borrows_last variables o = rw (get_last variables o) refl

-- a value that fits now names what is declared before
type_before : (types : List TypeForm) (variables : List VariableForm) (t : ScalarType) (e : ExpressionForm) → fits.has_type types variables t e ≡ true → fits.expression_before (length variables) e ≡ true
type_before types variables t e h = typed_before types variables e t (of_type t (fits.type_of types variables e) h)

moved_before : (types : List TypeForm) (variables : List VariableForm) (path : PathForm) (access : ℕ) (found : Option VariableKind) → fits.path_kind types variables path ≡ found → fits.is_this access (fits.value_access found) ≡ true → nat_lt path.root (length variables) ≡ true
moved_before types variables path access None is h = absurd (cc h)
moved_before types variables path access (Some k) is h = path_before types variables path k is

component_is_before : (types : List TypeForm) (variables : List VariableForm) (k : ComponentKind) (i : ItemForm) → fits.component_item_fits types variables k i ≡ true → fits.item_before (length variables) i ≡ true
component_is_before types variables k null_item h = refl
component_is_before types variables (component.Integer initial) (item_of_path path) h = absurd (cc h)
component_is_before types variables (component.Integer initial) (item_of_value e) h = type_before types variables Integer e h
component_is_before types variables (component.Integer initial) (item_of_record p) h = absurd (cc h)
component_is_before types variables (component.Boolean initial) (item_of_path path) h = absurd (cc h)
component_is_before types variables (component.Boolean initial) (item_of_value e) h = type_before types variables Boolean e h
component_is_before types variables (component.Boolean initial) (item_of_record p) h = absurd (cc h)
component_is_before types variables (component.Access t) (item_of_path path) h =
    moved_before types variables path t.0 (fits.path_kind types variables path) refl h
component_is_before types variables (component.Access t) (item_of_value e) h = absurd (cc h)
component_is_before types variables (component.Access t) (item_of_record p) h = absurd (cc h)

first_is_before : (types : List TypeForm) (variables : List VariableForm) (cs : List ComponentKind) (i : ItemForm) → fits.first_fits types variables cs i ≡ true → fits.item_before (length variables) i ≡ true
first_is_before types variables [] i h = absurd (cc h)
first_is_before types variables (c ∷ cs) i h = component_is_before types variables c i h

copied_before : (types : List TypeForm) (variables : List VariableForm) (p : RecordPathForm) (found : Option VariableKind) → fits.path_kind types variables p.object ≡ found → (fits.has_record_at (fits.object_components types (fits.access_of found)) p.first (fits.record_components types p.record_type) && fits.has_parts_at types p.record_type (fits.object_named types (fits.access_of found)) p.first p.part) ≡ true → nat_lt p.object.root (length variables) ≡ true
copied_before types variables p None is h = absurd (cc h)
copied_before types variables p (Some k) is h = path_before types variables p.object k is

item_is_before : (types : List TypeForm) (variables : List VariableForm) (cs : List ComponentKind) (i : ItemForm) → fits.item_fits types variables cs i ≡ true → fits.item_before (length variables) i ≡ true
item_is_before types variables cs null_item h = refl
item_is_before types variables cs (item_of_path path) h = first_is_before types variables cs (item_of_path path) h
item_is_before types variables cs (item_of_value e) h = first_is_before types variables cs (item_of_value e) h
item_is_before types variables cs (item_of_record p) h =
    copied_before types variables p (fits.path_kind types variables p.object) refl
    (first_part (fits.is_record_path types variables p) (fits.begins_with_record cs (fits.record_components types p.record_type)) h)

items_are_before : (types : List TypeForm) (variables : List VariableForm) (cs : List ComponentKind) (items : List ItemForm) → fits.items_fit types variables cs items ≡ true → list_all (fits.item_before (length variables)) items ≡ true
items_are_before types variables cs [] h = refl
items_are_before types variables cs (i ∷ items) h =
    let behind = drop (fits.item_width types i) cs in
    let own = fits.item_fits types variables cs i in
    let rest = fits.items_fit types variables behind items in
    both_parts (fits.item_before (length variables) i) (list_all (fits.item_before (length variables)) items)
    (item_is_before types variables cs i (first_part own rest h)) (items_are_before types variables behind items (second_part own rest h))

filled_before : (types : List TypeForm) (variables : List VariableForm) (cs : Option (List ComponentKind)) (items : List ItemForm) → fits.is_filled types variables cs items ≡ true → list_all (fits.item_before (length variables)) items ≡ true
filled_before types variables None items h = absurd (cc h)
filled_before types variables (Some cs) items h = items_are_before types variables cs items h

access_before : (types : List TypeForm) (variables : List VariableForm) (access : ℕ) (s : RightForm) → fits.access_fits types variables access s ≡ true → fits.names_before (length variables) s ≡ true
access_before types variables access nothing h = refl
access_before types variables access (value_of path) h =
    moved_before types variables path access (fits.path_kind types variables path) refl h
access_before types variables access (allocates t items) h =
    let same = eqb t access in
    let filled : Bool = fits.is_filled types variables (fits.reached_components types access) items in
    filled_before types variables (fits.reached_components types access) items
    (second_part same filled (first_part (same && filled) (eqb (fits.parts_named types (fits.object_named types (Some access))) 0) h))
access_before types variables access (allocates_default t) h = refl
access_before types variables access (computes e) h = absurd (cc h)

scalar_before : (types : List TypeForm) (variables : List VariableForm) (t : ScalarType) (s : RightForm) → fits.scalar_fits types variables t s ≡ true → fits.names_before (length variables) s ≡ true
scalar_before types variables t nothing h = refl
scalar_before types variables t (value_of path) h = absurd (cc h)
scalar_before types variables t (allocates a items) h = absurd (cc h)
scalar_before types variables t (allocates_default a) h = absurd (cc h)
scalar_before types variables t (computes e) h = type_before types variables t e h

source_before : (types : List TypeForm) (variables : List VariableForm) (kind : VariableKind) (s : RightForm) → fits.kind_takes types variables kind s ≡ true → fits.names_before (length variables) s ≡ true
source_before types variables variable.Integer s h = scalar_before types variables Integer s h
source_before types variables variable.Boolean s h = scalar_before types variables Boolean s h
source_before types variables (variable.Access access) s h = access_before types variables access.0 s h
source_before types variables (variable.Record object) s h = absurd (cc h)

-- one more object, the next in order
next_first : (es : List DeclarationForm) (d : DeclarationForm) → fits.is_object d ≡ true → fits.collections_first es ≡ true → fits.collections_first (es ++ d ∷ []) ≡ true
next_first [] (creates_pool p) o e = absurd (cc o)
next_first [] (collects t) o e = absurd (cc o)
next_first [] (declares x s) o e = refl
next_first [] (declares_record x object initial) o e = refl
next_first (creates_pool p ∷ es) d o e = next_first es d o e
next_first (collects t ∷ es) d o e = next_first es d o e
next_first (declares x s ∷ es) d o e = all_more fits.is_object es (d ∷ []) e (both_parts (fits.is_object d) true o refl)
next_first (declares_record x object initial ∷ es) d o e = all_more fits.is_object es (d ∷ []) e (both_parts (fits.is_object d) true o refl)

pub one_longer : {X : Type 0} (xs : List X) (x : X) → length (xs ++ x ∷ []) ≡ length xs + 1
one_longer [] x = omega arith
one_longer (y ∷ xs) x = let h = one_longer xs x in omega arith

-- a test of two, the first of which fails
pub both_fail : (a b : Bool) → a ≡ false → (a && b) ≡ false
both_fail true b e = absurd (cc e)
both_fail false b e = refl

not_none : (variables : List VariableForm) (o : VariableForm) (n : ℕ) (b : Bool) → n ≤ length variables → ((length (variables ++ o ∷ []) == n) && b) ≡ false
not_none variables o n b first = both_fail (length (variables ++ o ∷ []) == n) b (ne_eqb (length (variables ++ o ∷ [])) n (omega (arith, one_longer variables o, first)))

-- what a variable is created with fits what it holds, and suits it, a borrower or not
abbrev pub IsCreatedWith : Known → VariableKind → (borrows : Bool) → RightForm → Type 0
IsCreatedWith k kind borrows s = (fits.kind_takes k.types k.variables kind s ≡ true) × (fits.lends_to k.variables borrows s ≡ true)

created_late : (k : Known) (name : Ident) (borrows : Bool) (kind : VariableKind) (s : RightForm) → AreRecordsLaid k.types → Late k → IsCreatedWith k kind borrows s → Late (variable_created k name borrows kind s)
created_late k name borrows kind s laid w f =
    let o : VariableForm = record { name = name.text; spot = name.spot; kind = kind; borrows = borrows } in
    let es = k.here.elaborated in
    record {
      collections_first = next_first es (declares (length k.variables) s) refl w.collections_first;
      collections_fit = all_more (fits.collection_fits k.types) es (declares (length k.variables) s ∷ []) w.collections_fit refl;
      initials_fit = all_more (fits.initial_fits k.types (k.variables ++ o ∷ [])) es (declares (length k.variables) s ∷ [])
          (initials_stay k.types k.types k.variables (k.variables ++ o ∷ []) (λ i x is. is) (λ i x is. get_more k.variables o i x is) laid es w.initials_fit)
          (both_parts (fits.initial_fits k.types (k.variables ++ o ∷ []) (declares (length k.variables) s)) true
          (both_parts
          (fits.names_before (length k.variables) s && fits.right_fits k.types (k.variables ++ o ∷ []) (fits.variable_kind (k.variables ++ o ∷ []) (length k.variables)) s)
          (fits.lends_to (k.variables ++ o ∷ []) (fits.is_borrower (k.variables ++ o ∷ []) (length k.variables)) s)
          (both_parts (fits.names_before (length k.variables) s)
          (fits.right_fits k.types (k.variables ++ o ∷ []) (fits.variable_kind (k.variables ++ o ∷ []) (length k.variables)) s)
          (source_before k.types k.variables kind s f.0)
          (rw (kind_last k.variables o) (taken_stays k.types k.types k.variables (k.variables ++ o ∷ []) (λ i x is. is)
          (λ i x is. get_more k.variables o i x is) laid kind s f.0)))
          (rw (borrows_last k.variables o) (lent_stays k.types k.types k.variables (k.variables ++ o ∷ []) (λ i x is. is)
          (λ i x is. get_more k.variables o i x is) laid kind borrows s f.0 f.1)))
          refl);
      one_each = λ a. let h = w.one_each a in let all = count_more a es (declares (length k.variables) s ∷ []) in omega (arith, h, all);
      in_order = λ n rest.
          ap (λ cs. fits.creates_from n k.here.first_variable (cs ++ rest)) (map_append fits.creation es (declares (length k.variables) s ∷ [])) ∙
          (ap (λ cs. fits.creates_from n k.here.first_variable cs) (append_assoc (map fits.creation es) (of_variable (length k.variables) ∷ []) rest) ∙
          (w.in_order n (of_variable (length k.variables) ∷ rest) ∙
          (rw (one_longer k.variables o, eq-eqb (length k.variables) (length k.variables) refl) refl)));
      pools = all_more (makes_known (length k.pools)) es (declares (length k.variables) s ∷ []) w.pools refl;
    }

-- one more variable
made_order : (k : Known) (name : Ident) (borrows : Bool) (kind : VariableKind) (s : RightForm) → AreRecordsLaid k.types → k.here.first_variable ≤ length k.variables → Late k → IsCreatedWith k kind borrows s → InOrder (variable_created k name borrows kind s)
made_order k name borrows kind s laid first w f =
    late (created_late k name borrows kind s laid w f) (not_none k.variables (record { name = name.text; spot = name.spot; kind = kind; borrows = borrows }) k.here.first_variable (no_body_yet k) first)

-- the items of a record object's initial value are those of its type
abbrev IsRecordInitial : Known → TypeNo → Option (List ItemForm) → Type 0
IsRecordInitial k t None = Unit {0}
IsRecordInitial k t (Some items) = fits.record_fits k.types k.variables t.0 items ≡ true

items_initial : (k : Known) (t : TypeNo) (o : VariableForm) (initial : Option (List ItemForm)) → AreRecordsLaid k.types → IsRecordInitial k t initial → fits.record_initial_fits (k.types ++ object_of t.0 ∷ []) (k.variables ++ o ∷ []) (length k.variables) (fits.object_named (k.types ++ object_of t.0 ∷ []) (Some (length k.types))) initial ≡ true
items_initial k t o None laid h = refl
items_initial k t o (Some items) laid h =
    let more = k.types ++ object_of t.0 ∷ [] in
    let others = k.variables ++ o ∷ [] in
    let filled : Bool = fits.is_filled k.types k.variables (fits.record_components k.types t.0) items in
    let own = list_all (fits.item_owns k.variables) items in
    let whole : Bool = fits.copies_whole t.0 (fits.finalization_of k.types t.0) items in
    let stays : fits.record_fits more others t.0 items ≡ true =
    record_stays k.types more k.variables others (forms_in k.types more (λ i x is. get_more k.types (object_of t.0) i x is)) (λ i x is. get_more k.variables o i x is) laid t.0 items h in
    both_parts (list_all (fits.item_before (length k.variables)) items) (fits.object_fits more others (fits.object_named more (Some (length k.types))) items)
    (filled_before k.types k.variables (fits.record_components k.types t.0) items (first_part filled own (first_part (filled && own) whole h)))
    (rw (get_last k.types (object_of t.0)) stays)

-- one more record object, with the type that it is known by
record_late : (k : Known) (name : Ident) (t : TypeNo) (initial : Option (List ItemForm)) → AreRecordsLaid k.types → Late k → IsRecordInitial k t initial → Late (record_created k name t initial)
record_late k name t initial laid w f =
    let more = k.types ++ object_of t.0 ∷ [] in
    let o : VariableForm = record { name = name.text; spot = name.spot; kind = next_record k; borrows = false } in
    let others = k.variables ++ o ∷ [] in
    let es = k.here.elaborated in
    let d = declares_record (length k.variables) (length k.types) initial in
    record {
      collections_first = next_first es d refl w.collections_first;
      collections_fit = all_more (fits.collection_fits more) es (d ∷ [])
          (collections_stay k.types more k.variables others (forms_in k.types more (λ i x is. get_more k.types (object_of t.0) i x is)) (λ i x is. get_more k.variables o i x is) es w.collections_fit) refl;
      initials_fit = all_more (fits.initial_fits more others) es (d ∷ [])
          (initials_stay k.types more k.variables others (forms_in k.types more (λ i x is. get_more k.types (object_of t.0) i x is)) (λ i x is. get_more k.variables o i x is) laid es w.initials_fit)
          (both_parts (fits.initial_fits more others d) true
          (both_parts (fits.is_record_object (length k.types) (fits.variable_kind others (length k.variables)))
          (fits.record_initial_fits more others (length k.variables) (fits.object_named more (Some (length k.types))) initial)
          (rw (kind_last k.variables o) (eq-eqb (length k.types) (length k.types) refl)) (items_initial k t o initial laid f)) refl);
      one_each = λ a.
          let h = w.one_each a in
          let same : due k.here.first_type more a ≡ due k.here.first_type k.types a = ap (λ (n : ℕ). cond (nat_le k.here.first_type a) n 0) (accesses_object k.types t.0 a) in
          let all = count_more a es (d ∷ []) in
          omega (arith, h, same, all);
      in_order = λ n rest.
          ap (λ cs. fits.creates_from n k.here.first_variable (cs ++ rest)) (map_append fits.creation es (d ∷ [])) ∙
          (ap (λ cs. fits.creates_from n k.here.first_variable cs) (append_assoc (map fits.creation es) (of_variable (length k.variables) ∷ []) rest) ∙
          (w.in_order n (of_variable (length k.variables) ∷ rest) ∙
          (rw (one_longer k.variables o, eq-eqb (length k.variables) (length k.variables) refl) refl)));
      pools = all_more (makes_known (length k.pools)) es (d ∷ []) w.pools refl;
    }

record_order : (k : Known) (name : Ident) (t : TypeNo) (initial : Option (List ItemForm)) → AreRecordsLaid k.types → k.here.first_variable ≤ length k.variables → Late k → IsRecordInitial k t initial → InOrder (record_created k name t initial)
record_order k name t initial laid first w f =
    late (record_late k name t initial laid w f) (not_none k.variables (record { name = name.text; spot = name.spot; kind = next_record k; borrows = false }) k.here.first_variable (no_body_yet k) first)

-- the initial value, null where none is written
integer_initial : (k : Known) (o : Option Assigned) → IsSourceFor k.types k.variables held.Integer false o → IsCreatedWith k variable.Integer false (initial_source (initial_value_in o))
integer_initial k None h = absurd h
integer_initial k (Some (a_value s)) h = h
integer_initial k (Some (a_whole items)) h = absurd h

boolean_initial : (k : Known) (o : Option Assigned) → IsSourceFor k.types k.variables held.Boolean false o → IsCreatedWith k variable.Boolean false (initial_source (initial_value_in o))
boolean_initial k None h = absurd h
boolean_initial k (Some (a_value s)) h = h
boolean_initial k (Some (a_whole items)) h = absurd h

access_value_initial : (k : Known) (access : TypeNo) (o : Option Assigned) → IsSourceFor k.types k.variables (held.Access access) false o → IsCreatedWith k (variable.Access access) false (initial_source (initial_value_in o))
access_value_initial k access None h = absurd h
access_value_initial k access (Some (a_value s)) h = h
access_value_initial k access (Some (a_whole items)) h = absurd h

access_initial : (k : Known) (access : TypeNo) (initial : Option RightTree) → PartsFit k.types k.variables (parts k) → Quiet (initial_remark k (Some (held.Access access)) initial) → IsCreatedWith k (variable.Access access) false (initial_source (initial_value_in (initial_found k (Some (held.Access access)) initial)))
access_initial k access None w q = (refl, refl)
access_initial k access (Some right) w q = access_value_initial k access _ (right_fits k (held.Access access) false right w q)

-- the items of a record object's initial value
record_items : (k : Known) (t : TypeNo) (o : Option Assigned) → IsSourceFor k.types k.variables (held.Record t) false o → IsRecordInitial k t (initial_items_in o)
record_items k t None h = absurd h
record_items k t (Some (a_value s)) h = absurd h
record_items k t (Some (a_whole items)) h = h

record_initial : (k : Known) (t : TypeNo) (initial : Option RightTree) → PartsFit k.types k.variables (parts k) → Quiet (initial_remark k (Some (held.Record t)) initial) → IsRecordInitial k t (initial_items_in (initial_found k (Some (held.Record t)) initial))
record_initial k t None w q = tt
record_initial k t (Some right) w q = record_items k t _ (right_fits k (held.Record t) false right w q)

created_order : (k : Known) (name : Ident) (o : Option Entity) (initial : Option RightTree) → PartsFit k.types k.variables (parts k) → k.here.first_variable ≤ length k.variables → InOrder k → Late k → Quiet (initial_remark k (held_of o) initial) → Quiet (initial_wanted o name initial) → InOrder (created_of k name o (initial_found k (held_of o) initial))
created_order k name None initial p first s w q g = s
created_order k name (Some entity.Integer) None p first s w q g = absurd g
created_order k name (Some entity.Boolean) None p first s w q g = absurd g
created_order k name (Some entity.Integer) (Some right) p first s w q g =
    made_order k name false variable.Integer _ (laid_in k.types k.variables (parts k) p) first w (integer_initial k _ (right_fits k held.Integer false right p q))
created_order k name (Some entity.Boolean) (Some right) p first s w q g =
    made_order k name false variable.Boolean _ (laid_in k.types k.variables (parts k) p) first w (boolean_initial k _ (right_fits k held.Boolean false right p q))
created_order k name (Some (entity.Access access)) initial p first s w q g =
    made_order k name false (variable.Access access) _ (laid_in k.types k.variables (parts k) p) first w (access_initial k access initial p q)
created_order k name (Some (entity.Record t size)) initial p first s w q g = record_order k name t _ (laid_in k.types k.variables (parts k) p) first w (record_initial k t initial p q)
created_order k name (Some other) initial p first s w q g = s

-- `X : T := ..;`, where the types have ended
pub object_order : (k : Known) (name : Ident) (type_name : NameTree) (initial : Option RightTree) → PartsFit k.types k.variables (parts k) → k.here.first_variable ≤ length k.variables → InOrder k → Late k → Quiet (object_remark k name type_name initial) → InOrder (object_known k name type_name initial)
object_order k name type_name initial p first s w q = created_order k name (object_type_found k type_name) initial p first s w q.1.1.1.0 q.1.1.1.1

-- `B : access T := P;`, where the types have ended
pub borrower_order : (k : Known) (name designated : Ident) (initial : Option RightTree) → PartsFit k.types k.variables (parts k) → k.here.first_variable ≤ length k.variables → Late k → Quiet (borrower_remark k name designated initial) → InOrder (borrower_known k name initial)
borrower_order k name designated initial p first w q =
    let r = lent_of k name designated initial p q in
    subst InOrder (sym (borrower_is k name designated initial r))
    (made_order k name true (variable.Access r.access) (value_of r.path) (laid_in k.types k.variables (parts k) p) first w (rw (r.typed) (eq-eqb r.access.0 r.access.0 refl), refl))
