-- What each declaration writes is what is known after it.

use Rattle.std.proofs.Common.{◌≡◌, ◌∙◌, zero, suc, inl, inr, ℕ, ◌+◌, ◌<◌, Bool, true, false, ◌||◌, cond, List, [], ◌∷◌, ◌++◌, length, append_assoc, refl, sym, ap, subst, eqb, eqb-true}
use Rattle.std.specs.Prelude.{Option, Some, None, codes, bytes_eq, is_some}
use Rattle.std.specs.List.{slice_get, list_all, list_any}
use Rattle.std.proofs.lemmas.List.Folds.{list_any-append}
use Rattle.ada_text.specs.declared.spot.Spot.{Spot}
use Rattle.ada_tree.specs.Names.{Ident, NameTree}
use Rattle.ada_tree.specs.Records.{StaticTree, plain, minus, named as static_name, ComponentTree}
use Rattle.ada_tree.specs.Expressions.{RightTree}
use Rattle.ada_program.specs.declared.program.ComponentKind.{ComponentKind}
use Rattle.ada_program.specs.declared.program.PartKind.{PartKind}
use Rattle.ada_program.specs.declared.program.PartKind.TheVariants as part
use Rattle.ada_program.specs.declared.program.TypeNo.{TypeNo}
use Rattle.ada_program.specs.declared.program.VariableKind.{VariableKind}
use Rattle.ada_program.specs.declared.program.VariableKind.TheVariants as variable
use Rattle.ada_program.specs.declared.program.Finalization.{Finalization as Finalized}
use Rattle.ada_program.specs.ProgramForm.{PartForm, TypeForm, record_of, access_to, object_of}
use Rattle.ada_program.specs.Controlled.{no_operations}
use Rattle.ada_program.specs.WellFormed as well
use Rattle.ada_resolve.specs.declared.fault.NameRule.TheVariants.{UnknownName, DeclaredTwice, WrongType}
use Rattle.ada_resolve.specs.declared.library.LibraryName.{LibraryName}
use Rattle.ada_resolve.specs.declared.library.LibraryName.TheVariants.{TextIo, PutLine, UncheckedDeallocation, Finalization, Controlled, LimitedControlled, Pools, FirstFitPool, OfPools, RunInput, Get, EndError, OtherUnit, Unknown}
use Rattle.ada_resolve.specs.declared.library.Withs.{Withs}
use Rattle.ada_resolve.specs.declared.rights.Held.{Held}
use Rattle.ada_resolve.specs.declared.rights.Held.TheVariants as held
use Rattle.ada_resolve.specs.declared.scope.Entity.{Entity}
use Rattle.ada_resolve.specs.declared.scope.Entity.TheVariants as entity
use Rattle.ada_resolve.specs.Known.{Known, visible, is_empty, is_with, if_with, library_wrong, library_found, library_remark, parts}
use Rattle.ada_resolve.specs.Library.{is_library_root, library_name}
use Rattle.ada_resolve.specs.Remark.{◌also◌}
use Rattle.ada_resolve.specs.Types.{record_in, record_found, record_wanted, record_remark, designates, is_access_to}
use Rattle.ada_resolve.specs.Statics.{static_value, static_remark, number_in, number_wanted, truth_in, truth_wanted}
use Rattle.ada_resolve.specs.Records.{integer_remark, boolean_remark, no_value_remark, kind_wanted, kind_in, kind_of_component, Composition, is_component, component_remark, component_meant, composed, composed_with, components_remark, finalization_made}
use Rattle.ada_resolve.specs.Controlled.{limited_within, says_limited}
use Rattle.ada_resolve.specs.Derived.{is_limited_parent, limited_parent, parent_part, parent_remark, parent_wanted, with_parent}
use Rattle.ada_resolve.specs.Instances.{deallocation_wanted, no_generic, generic_remark, access_if, access_in, access_wanted, freed_found, freed_remark}
use Rattle.ada_resolve.specs.Paths.{library_is_no_value}
use Rattle.ada_resolve.specs.Objects.{initial_remark, initial_found, initial_wanted, type_in, type_wanted, object_type_found, object_type_remark, held_of, initial_items_in, initial_source, initial_value_in}
use Rattle.ada_resolve.specs.Naming.{Context, IsNumberNamed, IsStaticRead, IsKindRead, AreComponentsRead, AreNamedApart, AreLaidOut, ArePartsInOrder, IsFinalized, IsParentRead, IsFullTypeNamed, IsTypeNamed, IsRecordNamed, IsFullRecordNamed, IsKindNamed, truth_name}
use Rattle.ada_resolve.specs.Reading.{AreInitialItems, IsInitialRead}
use Rattle.ada_resolve.specs.Rights.{Assigned, a_value, a_whole}
use Rattle.ada_resolve.specs.Paths.{name_of_type, elementary_of}
use Rattle.ada_resolve.proofs.WellFormed.Remarks.{Quiet, quiet_if, quiet_unless}
use Rattle.ada_resolve.proofs.WellFormed.Names.{EntityFits, PartsFit, same_text, visible_fits}
use Rattle.ada_resolve.proofs.WellFormed.Laid.{OfParts, RecordHas, append_none, elementary_is, laid_stays}
use Rattle.ada_resolve.proofs.WellFormed.Numbered.{IsFinalizedAlike, order_alike, positive}
use Rattle.ada_resolve.proofs.WellFormed.Types.{IsBegun, made_has, made_laid, made_order}
use Rattle.ada_resolve.proofs.WellFormed.Tables.{first_part, second_part}
use Rattle.ada_resolve.proofs.Agreeing.{Agrees, EntityRead, Readable, visible_read}
use Rattle.ada_resolve.proofs.ComponentLists.{in_more}
use Rattle.ada_resolve.proofs.Keeping.{HasName, has_name, Lasts}
use Rattle.ada_resolve.proofs.Standing.{Sound, IsSettled, visible_settled}
use Rattle.ada_resolve.proofs.WellFormed.Forms as forms
use Rattle.ada_resolve.proofs.WellFormed.Forms.{access_stays, access_there, bare_final, get_form, record_stays, same_final}
use Rattle.ada_resolve.proofs.Reading.{FoundRight, right_read, empty_is, no_name}

-- what declarations are read by, where a type may be incomplete
pub record Legible (k : Known) (p : Context) : Type 0 where
  pub sound : Sound k
  pub agrees : Agrees k p.place
  pub lasts : Lasts k p

-- a static Integer
number_read : (p : Context) (name : Ident) (o : Option Entity) → ((e : Entity) → o ≡ Some e → EntityRead p name.text e) → Quiet (number_wanted o name) → IsNumberNamed p name.text (number_in o)
number_read p name (Some (entity.Number n)) t q = t (entity.Number n) refl
number_read p name (Some e) t q = absurd q
number_read p name None t q = absurd q

pub static_read : (k : Known) (p : Context) (value : StaticTree) → Agrees k p.place → Quiet (static_remark k value) → IsStaticRead p value (static_value k value)
static_read k p (plain spot n) w q = refl
static_read k p (minus spot n) w q = refl
static_read k p (static_name name) w q = number_read p name (visible k name.text) (visible_read k p w name.text) q

-- a static Boolean
truth_read : (p : Context) (name : Ident) (o : Option Entity) → ((e : Entity) → o ≡ Some e → EntityRead p name.text e) → Quiet (truth_wanted o name) → name.text ≡ truth_name (truth_in o)
truth_read p name (Some (entity.Truth b)) f q = f (entity.Truth b) refl
truth_read p name (Some e) f q = absurd q
truth_read p name None f q = absurd q

-- what a component holds
boolean_read : (k : Known) (p : Context) (name type_name : Ident) (initial : Option StaticTree) → Legible k p → type_name.text ≡ codes "BOOLEAN" → Quiet (boolean_remark k name initial) → IsKindRead p (record { name = name; type_name = type_name; initial = initial }) (kind_in (Some entity.Boolean) k initial)
boolean_read k p name type_name None w t q = absurd q
boolean_read k p name type_name (Some (plain spot n)) w t q = absurd q
boolean_read k p name type_name (Some (minus spot n)) w t q = absurd q
boolean_read k p name type_name (Some (static_name value)) w t q = (t, value, refl, truth_read p value (visible k value.text) (visible_read k p w.agrees value.text) q)

integer_read : (k : Known) (p : Context) (name type_name : Ident) (initial : Option StaticTree) → Legible k p → type_name.text ≡ codes "INTEGER" → Quiet (integer_remark k name initial) → IsKindRead p (record { name = name; type_name = type_name; initial = initial }) (kind_in (Some entity.Integer) k initial)
integer_read k p name type_name None w t q = absurd q
integer_read k p name type_name (Some value) w t q = (t, value, refl, static_read k p value w.agrees q)

no_value : (k : Known) (initial : Option StaticTree) → Quiet (no_value_remark k initial) → initial ≡ None
no_value k None q = refl
no_value k (Some (plain spot n)) q = absurd q
no_value k (Some (minus spot n)) q = absurd q
no_value k (Some (static_name name)) q = absurd q.1

-- a record type that is settled is that of the program
pub record_lasts : (k : Known) (p : Context) → Lasts k p → (t : ℕ) (name : List ℕ) (ps : List PartForm) (cs : List ComponentKind) (final : Option Finalized) → slice_get k.types t ≡ Some (record_of name ps cs final) → IsSettled k t → (z : Option Finalized) × (slice_get p.types t ≡ Some (record_of name ps cs z)) × (bare_final z ≡ bare_final final)
record_lasts k p w t name ps cs final is settled =
    forms.record_there p.types t name ps cs (bare_final final) (w.settled t (record_of name ps cs (bare_final final)) (get_form k.types t (record_of name ps cs final) is) settled)

kind_read : (k : Known) (p : Context) (name type_name : Ident) (initial : Option StaticTree) (o : Option Entity) → Legible k p → visible k type_name.text ≡ o → ((e : Entity) → o ≡ Some e → EntityFits k.types k.variables type_name.text e) → ((e : Entity) → o ≡ Some e → EntityRead p type_name.text e) → Quiet (kind_wanted o k (record { name = name; type_name = type_name; initial = initial })) → IsKindRead p (record { name = name; type_name = type_name; initial = initial }) (kind_in o k initial)
kind_read k p name type_name initial (Some entity.Integer) w is f t q = integer_read k p name type_name initial w (t entity.Integer refl) q
kind_read k p name type_name initial (Some entity.Boolean) w is f t q = boolean_read k p name type_name initial w (t entity.Boolean refl) q
kind_read k p name type_name initial (Some (entity.Access a)) w is f t q =
    let there = f (entity.Access a) refl in
    let last = access_there p.types a.0 type_name.text there.0 (w.lasts.accesses a.0 type_name.text there.0 (get_form k.types a.0 (access_to type_name.text there.0 there.1) there.2)) in
    ((t (entity.Access a) refl, there.0, last.0, last.1), no_value k initial q)
kind_read k p name type_name initial (Some (entity.Record u size)) w is f t q =
    let there = f (entity.Record u size) refl in
    let last = record_lasts k p w.lasts u.0 type_name.text there.0 there.1 there.2 there.3 (visible_settled k type_name.text u size w.sound is) in
    ((t (entity.Record u size) refl, there.0, there.1, last.0, last.1), no_value k initial q)
kind_read k p name type_name initial (Some e) w is f t q = absurd q
kind_read k p name type_name initial None w is f t q = absurd q

-- the declared components that join those before them
pub further_parts : Known → Composition → List ComponentTree → List PartForm
further_parts k before [] = []
further_parts k before (c ∷ cs) = component_meant k (length before.kinds) before.controlled c ∷ further_parts k (composed_with k before c) cs

pub composed_parts : (k : Known) (before : Composition) (cs : List ComponentTree) → before.parts ++ further_parts k before cs ≡ (composed k before cs).parts
unfolding further_parts
composed_parts k before [] = append_none before.parts
composed_parts k before (c ∷ cs) =
    let one = component_meant k (length before.kinds) before.controlled c in
    sym (append_assoc before.parts (one ∷ []) (further_parts k (composed_with k before c) cs)) ∙ composed_parts k (composed_with k before c) cs

pub components_read : (k : Known) (p : Context) (before : Composition) (cs : List ComponentTree) → Legible k p → Quiet (components_remark k before cs) → AreComponentsRead p cs (further_parts k before cs)
unfolding component_remark component_meant further_parts
components_read k p before [] w q = tt
components_read k p before (c ∷ cs) w q = (
  refl,
  kind_read k p c.name c.type_name c.initial (visible k c.type_name.text) w refl (visible_fits k w.sound.names c.type_name.text) (visible_read k p w.agrees c.type_name.text) q.0.1.1.1.1.1,
  components_read k p (composed_with k before c) cs w q.1,
)

-- they lie one behind the other in the program, and so do their controlled parts
type_lasts : (k : Known) (p : Context) → Legible k p → (text : List ℕ) (t : TypeNo) (size : ℕ) → visible k text ≡ Some (entity.Record t size) → (elementary_of p.types t.0 ≡ elementary_of k.types t.0) × IsFinalizedAlike k.types p.types t.0
type_lasts k p w text t size is =
    let there = visible_fits k w.sound.names text (entity.Record t size) is in
    let last = record_lasts k p w.lasts t.0 text there.0 there.1 there.2 there.3 (visible_settled k text t size w.sound is) in (
      elementary_is p.types t.0 text there.0 there.1 last.0 last.1 ∙ sym (elementary_is k.types t.0 text there.0 there.1 there.2 there.3),
      ap (λ (o : Option TypeForm). bare_final (well.finalization_in o)) last.1 ∙ (last.2 ∙ ap (λ (o : Option TypeForm). bare_final (well.finalization_in o)) (sym there.3)),
    )

pub all_laid : (k : Known) (p : Context) (before : Composition) (cs : List ComponentTree) → IsBegun before → Legible k p → AreLaidOut p.types 0 (composed k before cs).parts (composed k before cs).kinds
all_laid k p before cs begun w =
    laid_stays k.types p.types 0 (composed k before cs).parts (composed k before cs).kinds
    (made_has k (λ t. elementary_of p.types t ≡ elementary_of k.types t) (λ text t size is. (type_lasts k p w text t size is).0) before cs begun)
    (made_laid k [] None before cs begun w.sound.names).0

order_is : (types : List TypeForm) (count from : ℕ) (ps : List PartForm) → well.parts_in_order types count from ps ≡ true → ArePartsInOrder types from ps count
order_is types count from [] e = sym (eqb-true from count e)
order_is types count from (p ∷ ps) e =
    let behind = from + well.parts_within types p.kind in
    let rest = well.parts_in_order types count behind ps in
    (eqb-true p.part from (first_part (eqb p.part from) rest e), order_is types count behind ps (second_part (eqb p.part from) rest e))

-- they make the record type limited where one of them is limited
or_last : (a b c x : Bool) → x ≡ (a || b) → (x || c) ≡ (a || (b || (c || false)))
or_last true b c x e = rw e refl
or_last false true c x e = rw e refl
or_last false false true x e = rw e refl
or_last false false false x e = rw e refl

made_limited : (k : Known) (limited : Bool) (before : Composition) (cs : List ComponentTree) → before.limited ≡ (limited || list_any (λ c. limited_within k.types c.kind) before.parts) → (composed k before cs).limited ≡ (limited || list_any (λ c. limited_within k.types c.kind) (composed k before cs).parts)
unfolding component_meant
made_limited k limited before [] e = e
made_limited k limited before (c ∷ cs) e =
    let one = component_meant k (length before.kinds) before.controlled c in
    made_limited k limited (composed_with k before c) cs
    (or_last limited (list_any (λ (d : PartForm). limited_within k.types d.kind) before.parts) (limited_within k.types (kind_of_component k c)) before.limited e ∙
    ap (λ (b : Bool). limited || b) (sym (list_any-append (λ (d : PartForm). limited_within k.types d.kind) before.parts (one ∷ []))))

limited_bare : (o : Option Finalized) → says_limited (bare_final o) ≡ says_limited o
limited_bare None = refl
limited_bare (Some f) = refl

limited_alike : (types more : List TypeForm) (kind : PartKind) → RecordHas (IsFinalizedAlike types more) kind → limited_within more kind ≡ limited_within types kind
limited_alike types more (part.Elementary kind) h = refl
limited_alike types more (part.Record t) h = same_final (λ o. says_limited o) limited_bare (well.finalization_of more t.0) (well.finalization_of types t.0) h
limited_alike types more part.Parent h = refl

any_alike : (types more : List TypeForm) (ps : List PartForm) → OfParts (RecordHas (IsFinalizedAlike types more)) ps → list_any (λ (c : PartForm). limited_within more c.kind) ps ≡ list_any (λ (c : PartForm). limited_within types c.kind) ps
any_alike types more [] h = refl
any_alike types more (c ∷ ps) h = rw (limited_alike types more c.kind (h 0 c refl), any_alike types more ps (λ i. h (suc i))) refl

-- the record type is finalized as they say
pub all_finalized : (k : Known) (p : Context) (limited : Bool) (before : Composition) (cs : List ComponentTree) → IsBegun before → before.limited ≡ (limited || list_any (λ c. limited_within k.types c.kind) before.parts) → Legible k p → IsFinalized p.types p.place.controlled limited (composed k before cs).parts (finalization_made k.controlled (composed k before cs))
all_finalized k p limited before cs begun start w = by_count (eqb (composed k before cs).controlled 0) refl
  where
    by_count : (b : Bool) → eqb (composed k before cs).controlled 0 ≡ b → IsFinalized p.types p.place.controlled limited (composed k before cs).parts (cond b None (Some (record { number = record { 0 = k.controlled }; parts = (composed k before cs).controlled; limited = (composed k before cs).limited; operations = no_operations })))
    by_count b is =
        let own = composed k before cs in
        let alike = made_has k (IsFinalizedAlike k.types p.types) (λ text t size there. (type_lasts k p w text t size there).1) before cs begun in
        let in_order = order_is p.types own.controlled 0 own.parts (order_alike k.types p.types own.controlled 0 own.parts alike ∙ made_order k before cs begun) in
        elim b as (λ c. eqb own.controlled 0 ≡ c → IsFinalized p.types p.place.controlled limited own.parts (cond c None (Some (record { number = record { 0 = k.controlled }; parts = own.controlled; limited = own.limited; operations = no_operations })))) [
          | true ↦ λ on. subst (λ (n : ℕ). ArePartsInOrder p.types 0 own.parts n) (eqb-true own.controlled 0 on) in_order
          | false ↦ λ off. (sym w.agrees.controlled, positive own.controlled off, in_order, made_limited k limited before cs start ∙ ap (λ (c : Bool). limited || c) (sym (any_alike k.types p.types own.parts alike)))
        ] is

-- so it is, whatever it overrides in the end
pub finalized_alike : (types : List TypeForm) (number : ℕ) (limited : Bool) (ps : List PartForm) (z final : Option Finalized) → bare_final z ≡ bare_final final → IsFinalized types number limited ps final → IsFinalized types number limited ps z
finalized_alike types number limited ps None None e w = w
finalized_alike types number limited ps None (Some f) e w = absurd (cc e)
finalized_alike types number limited ps (Some g) None e w = absurd (cc e)
finalized_alike types number limited ps (Some g) (Some f) e w =
    let own : Finalized = record g { operations = no_operations } in
    let other : Finalized = record f { operations = no_operations } in
    let same : own ≡ other = cc e in
    let counts : g.parts ≡ f.parts = ap (λ (v : Finalized). v.parts) same in
    let limits : g.limited ≡ f.limited = ap (λ (v : Finalized). v.limited) same in (
      ap (λ (v : Finalized). v.number.0) same ∙ w.0,
      subst (λ (n : ℕ). 0 < n) (sym counts) w.1,
      subst (λ (n : ℕ). ArePartsInOrder types 0 ps n) (sym counts) w.2,
      limits ∙ w.3,
    )

-- no two components have one name
abbrev IsApart : List ℕ → List PartForm → Type 0
IsApart text cs = (i : ℕ) (d : PartForm) → slice_get cs i ≡ Some d → d.name ≡ text → ⊥

apart_more : (text : List ℕ) (c : PartForm) (cs : List PartForm) → (c.name ≡ text → ⊥) → IsApart text cs → IsApart text (c ∷ cs)
apart_more text c cs ne old zero d is same = let first : c ≡ d = cc is in ne (ap (λ (x : PartForm). x.name) first ∙ same)
apart_more text c cs ne old (suc i) d is same = old i d is same

still_there : (text : List ℕ) (before : List PartForm) (c : PartForm) → is_component text before ≡ true → is_component text (before ++ c ∷ []) ≡ true
still_there text before c on = in_more text before c ∙ ap (λ (b : Bool). b || bytes_eq text c.name) on

there_now : (before : List PartForm) (c : PartForm) → is_component c.name (before ++ c ∷ []) ≡ true
there_now before c =
    in_more c.name before c ∙ (ap (λ (b : Bool). is_component c.name before || b) (same_text c.name c.name refl) ∙ either (is_component c.name before))
  where
    either : (b : Bool) → (b || true) ≡ true
    either true = refl
    either false = refl

components_apart : (k : Known) (before : Composition) (cs : List ComponentTree) → Quiet (components_remark k before cs) → ((text : List ℕ) → is_component text before.parts ≡ true → IsApart text (further_parts k before cs)) × AreNamedApart (further_parts k before cs)
unfolding component_remark component_meant further_parts
components_apart k before [] q = (λ text on i d is. absurd (cc is), tt)
components_apart k before (c ∷ cs) q =
    let one : PartForm = component_meant k (length before.kinds) before.controlled c in
    let others = further_parts k (composed_with k before c) cs in
    let rest = components_apart k (composed_with k before c) cs q.1 in (
      λ text on. apart_more text one others (not_before text on) (rest.0 text (still_there text before.parts one on)),
      (rest.0 c.name.text (there_now before.parts one), rest.1),
    )
  where
    not_before : (text : List ℕ) → is_component text before.parts ≡ true → c.name.text ≡ text → ⊥
    not_before text on same =
        let off : is_component c.name.text before.parts ≡ false = quiet_if (is_component c.name.text before.parts) c.name.spot DeclaredTwice q.0.1.1.0 in
        let there : is_component c.name.text before.parts ≡ true = subst (λ (t : List ℕ). is_component t before.parts ≡ true) (sym same) on in cc (off, there)

pub all_apart : (k : Known) (before : Composition) (cs : List ComponentTree) → Quiet (components_remark k before cs) → AreNamedApart (further_parts k before cs)
all_apart k before cs q = (components_apart k before cs q).1

-- and none has the parent part's, which is empty
pub parent_apart : (k : Known) (limited : Bool) (cs : List ComponentTree) → Quiet (components_remark k (with_parent limited) cs) → AreNamedApart (parent_part ∷ further_parts k (with_parent limited) cs)
parent_apart k limited cs q = let apart = components_apart k (with_parent limited) cs q in (apart.0 [] refl, apart.1)

-- the record type of a name
abbrev pub FoundRecord : Known → Context → Ident → Option TypeNo → Type 0
FoundRecord k p name None = ⊥
FoundRecord k p name (Some t) = HasName k.types name.text t.0 × IsTypeNamed p name.text t.0

record_at : (k : Known) (p : Context) (name : Ident) (o : Option Entity) → ((e : Entity) → o ≡ Some e → EntityFits k.types k.variables name.text e) → ((e : Entity) → o ≡ Some e → EntityRead p name.text e) → Quiet (record_wanted o name) → FoundRecord k p name (record_in o)
record_at k p name (Some (entity.Incomplete t)) f r q = (has_name k.types name.text t.0 (record_of name.text [] [] None) (f (entity.Incomplete t) refl) refl, inr (r (entity.Incomplete t) refl))
record_at k p name (Some (entity.Record t size)) f r q = let there = f (entity.Record t size) refl in (has_name k.types name.text t.0 (record_of name.text there.0 there.1 there.2) there.3 refl, inl (r (entity.Record t size) refl))
record_at k p name (Some e) f r q = absurd q
record_at k p name None f r q = absurd q

pub record_read : (k : Known) (p : Context) (name : Ident) → PartsFit k.types k.variables (parts k) → Agrees k p.place → Quiet (record_remark k name) → FoundRecord k p name (record_found k name)
unfolding record_found record_remark
record_read k p name w a q = record_at k p name (visible k name.text) (visible_fits k w name.text) (visible_read k p a name.text) q

-- what is designated is a record type
all_at : {X : Type 0} (f : X → Bool) (xs : List X) (i : ℕ) (x : X) → list_all f xs ≡ true → slice_get xs i ≡ Some x → f x ≡ true
all_at f [] i x all is = absurd (cc is)
all_at f (y ∷ xs) zero x all is = let same : y ≡ x = cc is in rw (sym same) (first_part (f y) (list_all f xs) all)
all_at f (y ∷ xs) (suc i) x all is = all_at f xs i x (second_part (f y) (list_all f xs) all) is

record_there : (types : List TypeForm) (text : List ℕ) (d : ℕ) (o : Option TypeForm) → slice_get types d ≡ o → name_of_type o ≡ Some text → is_some (well.components_in o) ≡ true → (ps : List PartForm) × (cs : List ComponentKind) × (final : Option Finalized) × (slice_get types d ≡ Some (record_of text ps cs final))
record_there types text d None there same is = absurd (cc is)
record_there types text d (Some (record_of name ps cs final)) there same is =
    let name_is : name ≡ text = cc same in (ps, cs, final, subst (λ (n : List ℕ). slice_get types d ≡ Some (record_of n ps cs final)) name_is there)
record_there types text d (Some (access_to name u pool)) there same is = absurd (cc is)
record_there types text d (Some (object_of record_type)) there same is = absurd (cc is)

pub designated_read : (p : Context) (text designated : List ℕ) (t d : ℕ) (pool : Option ℕ) → list_all (well.type_fits p.types) p.types ≡ true → slice_get p.types t ≡ Some (access_to text d pool) → HasName p.types designated d → IsTypeNamed p designated d → IsRecordNamed p designated d
designated_read p text designated t d pool all there same named_so =
    let is = record_there p.types designated d (slice_get p.types d) refl same (all_at (well.type_fits p.types) p.types t (access_to text d pool) all there) in (named_so, is.0, is.1, is.2, is.3)

-- the access type of an instance
abbrev pub FoundAccess : Known → Context → Ident → Ident → Option TypeNo → Type 0
FoundAccess k p access object None = ⊥
FoundAccess k p access object (Some t) =
    IsFullTypeNamed p access.text t.0 × (d : ℕ) × (pool : Option ℕ) × (slice_get k.types t.0 ≡ Some (access_to access.text d pool)) × HasName k.types object.text d × IsTypeNamed p object.text d

reached : (types : List TypeForm) (t u d : ℕ) (text : List ℕ) (pool : Option ℕ) → slice_get types t ≡ Some (access_to text d pool) → is_access_to (slice_get types t) u ≡ true → d ≡ u
reached types t u d text pool there is = eqb-true d u (subst (λ (o : Option TypeForm). is_access_to o u ≡ true) there is)

access_at : (k : Known) (p : Context) (access object : Ident) (u : TypeNo) (o : Option Entity) → HasName k.types object.text u.0 × IsTypeNamed p object.text u.0 → ((e : Entity) → o ≡ Some e → EntityFits k.types k.variables access.text e) → ((e : Entity) → o ≡ Some e → EntityRead p access.text e) → Quiet (access_wanted o k.types (Some u) access) → FoundAccess k p access object (access_in o k.types (Some u))
unfolding designates
access_at k p access object u (Some (entity.Access t)) has f r q = by_test (is_access_to (slice_get k.types t.0) u.0) refl (quiet_unless (is_access_to (slice_get k.types t.0) u.0) access.spot WrongType q)
  where
    by_test : (b : Bool) → is_access_to (slice_get k.types t.0) u.0 ≡ b → b ≡ true → FoundAccess k p access object (access_if b t)
    by_test true is on =
        let there = f (entity.Access t) refl in
        let same = sym (reached k.types t.0 u.0 there.0 access.text there.1 there.2 is) in
        (r (entity.Access t) refl, there.0, there.1, there.2, subst (λ (d : ℕ). HasName k.types object.text d) same has.0, subst (λ (d : ℕ). IsTypeNamed p object.text d) same has.1)
    by_test false is on = absurd (cc on)
access_at k p access object u (Some e) has f r q = absurd q
access_at k p access object u None has f r q = absurd q

pub access_read : (k : Known) (p : Context) (access object : Ident) (o : Option TypeNo) → PartsFit k.types k.variables (parts k) → Agrees k p.place → FoundRecord k p object o → Quiet (freed_remark k access o) → FoundAccess k p access object (freed_found k access o)
unfolding freed_found freed_remark
access_read k p access object None w a found q = absurd found
access_read k p access object (Some u) w a found q = access_at k p access object u (visible k access.text) found (visible_fits k w access.text) (visible_read k p a access.text) q

-- the generic of an instance
generic_is : (withs : Withs) (n : LibraryName) (spot : Spot) → Quiet (library_wrong withs n spot) → Quiet (deallocation_wanted (if_with (is_with withs n) n) spot) → n ≡ UncheckedDeallocation
generic_is withs UncheckedDeallocation spot q d = refl
generic_is withs TextIo spot q d = absurd (subst (λ (b : Bool). Quiet (deallocation_wanted (if_with b TextIo) spot)) (quiet_unless withs.text_io spot UnknownName q) d)
generic_is withs PutLine spot q d = absurd (subst (λ (b : Bool). Quiet (deallocation_wanted (if_with b PutLine) spot)) (quiet_unless withs.text_io spot UnknownName q) d)
generic_is withs Finalization spot q d = absurd (subst (λ (b : Bool). Quiet (deallocation_wanted (if_with b Finalization) spot)) (quiet_unless withs.finalization spot UnknownName q) d)
generic_is withs Controlled spot q d = absurd (subst (λ (b : Bool). Quiet (deallocation_wanted (if_with b Controlled) spot)) (quiet_unless withs.finalization spot UnknownName q) d)
generic_is withs LimitedControlled spot q d = absurd (subst (λ (b : Bool). Quiet (deallocation_wanted (if_with b LimitedControlled) spot)) (quiet_unless withs.finalization spot UnknownName q) d)
generic_is withs Pools spot q d = absurd (subst (λ (b : Bool). Quiet (deallocation_wanted (if_with b Pools) spot)) (quiet_unless withs.pools spot UnknownName q) d)
generic_is withs FirstFitPool spot q d = absurd (subst (λ (b : Bool). Quiet (deallocation_wanted (if_with b FirstFitPool) spot)) (quiet_unless withs.pools spot UnknownName q) d)
generic_is withs OfPools spot q d = absurd q
generic_is withs RunInput spot q d = absurd (subst (λ (b : Bool). Quiet (deallocation_wanted (if_with b RunInput) spot)) (quiet_unless withs.run_input spot UnknownName q) d)
generic_is withs Get spot q d = absurd (subst (λ (b : Bool). Quiet (deallocation_wanted (if_with b Get) spot)) (quiet_unless withs.run_input spot UnknownName q) d)
generic_is withs EndError spot q d = absurd (subst (λ (b : Bool). Quiet (deallocation_wanted (if_with b EndError) spot)) (quiet_unless withs.run_input spot UnknownName q) d)
generic_is withs OtherUnit spot q d = absurd q
generic_is withs Unknown spot q d = absurd q

pub generic_read : (k : Known) (generic : NameTree) → Quiet (generic_remark k generic) → library_name generic.first.text generic.rest ≡ UncheckedDeallocation
unfolding generic_remark
generic_read k generic q = by_root (is_library_root generic.first.text) q
  where
    by_entity : (o : Option Entity) → Quiet (no_generic o generic.first) → ⊥
    by_entity (Some e) q = q
    by_entity None q = q

    by_root : (b : Bool) → Quiet (cond b (library_remark k generic.first generic.rest also deallocation_wanted (if_with (is_with k.withs (library_name generic.first.text generic.rest)) (library_name generic.first.text generic.rest)) generic.first.spot) (no_generic (visible k generic.first.text) generic.first)) → library_name generic.first.text generic.rest ≡ UncheckedDeallocation
    by_root true q = generic_is k.withs (library_name generic.first.text generic.rest) generic.first.spot q.0 q.1
    by_root false q = absurd (by_entity (visible k generic.first.text) q)

-- the parent of a derived type
abbrev ParentIs : LibraryName → (limited : Bool) → Type 0
ParentIs n false = n ≡ Controlled
ParentIs n true = n ≡ LimitedControlled

parent_is : (withs : Withs) (n : LibraryName) (spot : Spot) → Quiet (library_wrong withs n spot) → Quiet (parent_wanted (if_with (is_with withs n) n) spot) → ParentIs n (is_limited_parent (if_with (is_with withs n) n))
parent_is withs Controlled spot q d = subst (λ (b : Bool). ParentIs Controlled (is_limited_parent (if_with b Controlled))) (sym (quiet_unless withs.finalization spot UnknownName q)) refl
parent_is withs LimitedControlled spot q d = subst (λ (b : Bool). ParentIs LimitedControlled (is_limited_parent (if_with b LimitedControlled))) (sym (quiet_unless withs.finalization spot UnknownName q)) refl
parent_is withs TextIo spot q d = absurd (subst (λ (b : Bool). Quiet (parent_wanted (if_with b TextIo) spot)) (quiet_unless withs.text_io spot UnknownName q) d)
parent_is withs PutLine spot q d = absurd (subst (λ (b : Bool). Quiet (parent_wanted (if_with b PutLine) spot)) (quiet_unless withs.text_io spot UnknownName q) d)
parent_is withs UncheckedDeallocation spot q d = absurd (subst (λ (b : Bool). Quiet (parent_wanted (if_with b UncheckedDeallocation) spot)) (quiet_unless withs.deallocation spot UnknownName q) d)
parent_is withs Finalization spot q d = absurd (subst (λ (b : Bool). Quiet (parent_wanted (if_with b Finalization) spot)) (quiet_unless withs.finalization spot UnknownName q) d)
parent_is withs Pools spot q d = absurd (subst (λ (b : Bool). Quiet (parent_wanted (if_with b Pools) spot)) (quiet_unless withs.pools spot UnknownName q) d)
parent_is withs FirstFitPool spot q d = absurd (subst (λ (b : Bool). Quiet (parent_wanted (if_with b FirstFitPool) spot)) (quiet_unless withs.pools spot UnknownName q) d)
parent_is withs RunInput spot q d = absurd (subst (λ (b : Bool). Quiet (parent_wanted (if_with b RunInput) spot)) (quiet_unless withs.run_input spot UnknownName q) d)
parent_is withs Get spot q d = absurd (subst (λ (b : Bool). Quiet (parent_wanted (if_with b Get) spot)) (quiet_unless withs.run_input spot UnknownName q) d)
parent_is withs EndError spot q d = absurd (subst (λ (b : Bool). Quiet (parent_wanted (if_with b EndError) spot)) (quiet_unless withs.run_input spot UnknownName q) d)
parent_is withs OfPools spot q d = absurd q
parent_is withs OtherUnit spot q d = absurd q
parent_is withs Unknown spot q d = absurd q

parent_read_as : (parent : NameTree) (limited : Bool) → ParentIs (library_name parent.first.text parent.rest) limited → IsParentRead parent limited
parent_read_as parent false h = h
parent_read_as parent true h = h

pub parent_read : (k : Known) (parent : NameTree) → Quiet (parent_remark k parent) → IsParentRead parent (limited_parent k parent)
unfolding parent_remark limited_parent
parent_read k parent q = by_root (is_library_root parent.first.text) q
  where
    by_entity : (o : Option Entity) → Quiet (no_generic o parent.first) → ⊥
    by_entity (Some e) q = q
    by_entity None q = q

    by_root : (b : Bool) → Quiet (cond b (library_remark k parent.first parent.rest also parent_wanted (library_found k parent.first parent.rest) parent.first.spot) (no_generic (visible k parent.first.text) parent.first)) → IsParentRead parent (cond b (is_limited_parent (library_found k parent.first parent.rest)) false)
    by_root true q =
        parent_read_as parent (is_limited_parent (library_found k parent.first parent.rest))
        (parent_is k.withs (library_name parent.first.text parent.rest) parent.first.spot q.0 q.1)
    by_root false q = absurd (by_entity (visible k parent.first.text) q)

-- what an object holds, and its initial value
pub record ObjectRead (k : Known) (p : Context) (type_name : NameTree) (initial : Option RightTree) (kind : Held) (of : VariableKind) : Type 0 where
  pub kind_named : IsKindNamed p type_name of
  pub starts : IsInitialRead p of initial (initial_source (initial_value_in (initial_found k (Some kind) initial)))

-- the record type of a record object, and its initial value
pub record RecordRead (k : Known) (p : Context) (type_name : NameTree) (initial : Option RightTree) (t : TypeNo) : Type 0 where
  pub alone : type_name.rest ≡ []
  pub record_named : IsFullRecordNamed p type_name.first.text t.0
  pub starts : AreInitialItems p initial t.0 (initial_items_in (initial_found k (Some (held.Record t)) initial))

-- the type of an object
abbrev pub TypeRead : Known → Context → NameTree → Option RightTree → Option Entity → Type 0
TypeRead k p type_name initial (Some entity.Integer) = ObjectRead k p type_name initial held.Integer variable.Integer
TypeRead k p type_name initial (Some entity.Boolean) = ObjectRead k p type_name initial held.Boolean variable.Boolean
TypeRead k p type_name initial (Some (entity.Access t)) = ObjectRead k p type_name initial (held.Access t) (variable.Access t)
TypeRead k p type_name initial (Some (entity.Record t size)) = RecordRead k p type_name initial t
TypeRead k p type_name initial other = ⊥

integer_starts : (p : Context) (right : RightTree) (o : Option Assigned) → FoundRight p held.Integer right o → IsInitialRead p variable.Integer (Some right) (initial_source (initial_value_in o))
integer_starts p right None f = absurd f
integer_starts p right (Some (a_value form)) f = f
integer_starts p right (Some (a_whole forms)) f = absurd f

boolean_starts : (p : Context) (right : RightTree) (o : Option Assigned) → FoundRight p held.Boolean right o → IsInitialRead p variable.Boolean (Some right) (initial_source (initial_value_in o))
boolean_starts p right None f = absurd f
boolean_starts p right (Some (a_value form)) f = f
boolean_starts p right (Some (a_whole forms)) f = absurd f

access_starts : (p : Context) (t : TypeNo) (right : RightTree) (o : Option Assigned) → FoundRight p (held.Access t) right o → IsInitialRead p (variable.Access t) (Some right) (initial_source (initial_value_in o))
access_starts p t right None f = absurd f
access_starts p t right (Some (a_value form)) f = f
access_starts p t right (Some (a_whole forms)) f = absurd f

record_starts : (p : Context) (t : TypeNo) (right : RightTree) (o : Option Assigned) → FoundRight p (held.Record t) right o → AreInitialItems p (Some right) t.0 (initial_items_in o)
record_starts p t right None f = absurd f
record_starts p t right (Some (a_value form)) f = absurd f
record_starts p t right (Some (a_whole forms)) f = f

object_at : (k : Known) (p : Context) (name : Ident) (type_name : NameTree) (initial : Option RightTree) (e : Entity) → Readable k p → type_name.rest ≡ [] → EntityFits k.types k.variables type_name.first.text e → EntityRead p type_name.first.text e → Quiet (initial_remark k (held_of (Some e)) initial) → Quiet (initial_wanted (Some e) name initial) → TypeRead k p type_name initial (Some e)
object_at k p name type_name None entity.Integer w alone f t q g = absurd g
object_at k p name type_name None entity.Boolean w alone f t q g = absurd g
object_at k p name type_name (Some right) entity.Integer w alone f t q g = record {
  kind_named = (alone, t);
  starts = integer_starts p right (initial_found k (Some held.Integer) (Some right)) (right_read k p held.Integer false right w q);
}
object_at k p name type_name (Some right) entity.Boolean w alone f t q g = record {
  kind_named = (alone, t);
  starts = boolean_starts p right (initial_found k (Some held.Boolean) (Some right)) (right_read k p held.Boolean false right w q);
}
object_at k p name type_name None (entity.Access a) w alone f t q g = record { kind_named = (alone, (let there = access_stays k.types p.types w.ahead.types a.0 type_name.first.text f.0 f.1 f.2 in (t, f.0, there.0, there.1))); starts = tt }
object_at k p name type_name (Some right) (entity.Access a) w alone f t q g = record {
  kind_named = (alone, (let there = access_stays k.types p.types w.ahead.types a.0 type_name.first.text f.0 f.1 f.2 in (t, f.0, there.0, there.1)));
  starts = access_starts p a right (initial_found k (Some (held.Access a)) (Some right)) (right_read k p (held.Access a) false right w q);
}
object_at k p name type_name None (entity.Record u size) w alone f t q g = record {
  alone = alone;
  record_named = (let last = record_stays k.types p.types w.ahead.types u.0 type_name.first.text f.0 f.1 f.2 f.3 in (t, f.0, f.1, last.0, last.1));
  starts = tt;
}
object_at k p name type_name (Some right) (entity.Record u size) w alone f t q g = record {
  alone = alone;
  record_named = (let last = record_stays k.types p.types w.ahead.types u.0 type_name.first.text f.0 f.1 f.2 f.3 in (t, f.0, f.1, last.0, last.1));
  starts = record_starts p u right (initial_found k (Some (held.Record u)) (Some right)) (right_read k p (held.Record u) false right w q);
}
object_at k p name type_name initial e w alone f t q g = absurd g

object_typed : (k : Known) (p : Context) (name : Ident) (type_name : NameTree) (initial : Option RightTree) (o : Option Entity) → Readable k p → type_name.rest ≡ [] → ((e : Entity) → o ≡ Some e → EntityFits k.types k.variables type_name.first.text e) → ((e : Entity) → o ≡ Some e → EntityRead p type_name.first.text e) → Quiet (type_wanted o true type_name.first) → Quiet (initial_remark k (held_of (type_in o)) initial) → Quiet (initial_wanted (type_in o) name initial) → TypeRead k p type_name initial (type_in o)
object_typed k p name type_name initial None w alone f t r q g = absurd r
object_typed k p name type_name initial (Some entity.Integer) w alone f t r q g = object_at k p name type_name initial entity.Integer w alone (f entity.Integer refl) (t entity.Integer refl) q g
object_typed k p name type_name initial (Some entity.Boolean) w alone f t r q g = object_at k p name type_name initial entity.Boolean w alone (f entity.Boolean refl) (t entity.Boolean refl) q g
object_typed k p name type_name initial (Some (entity.Access a)) w alone f t r q g = object_at k p name type_name initial (entity.Access a) w alone (f (entity.Access a) refl) (t (entity.Access a) refl) q g
object_typed k p name type_name initial (Some (entity.Record u size)) w alone f t r q g = object_at k p name type_name initial (entity.Record u size) w alone (f (entity.Record u size) refl) (t (entity.Record u size) refl) q g
object_typed k p name type_name initial (Some e) w alone f t r q g = absurd r.1

-- a name of the library is no type
no_library : (withs : Withs) (n : LibraryName) (spot : Spot) (o : Option LibraryName) → if_with (is_with withs n) n ≡ o → Quiet (library_wrong withs n spot) → Quiet (library_is_no_value o spot) → ⊥
no_library withs n spot None is q r = no_name withs n spot q is
no_library withs n spot (Some other) is q r = r

not_alone : (o : Option Entity) (name : Ident) → Quiet (type_wanted o false name) → ⊥
not_alone (Some e) name q = q.0
not_alone None name q = q

pub object_read : (k : Known) (p : Context) (name : Ident) (type_name : NameTree) (initial : Option RightTree) → Readable k p → Quiet (object_type_remark k type_name) → Quiet (initial_remark k (held_of (object_type_found k type_name)) initial) → Quiet (initial_wanted (object_type_found k type_name) name initial) → TypeRead k p type_name initial (object_type_found k type_name)
unfolding object_type_found object_type_remark
object_read k p name type_name initial w r q g = by_root (is_library_root type_name.first.text) r q g
  where
    by_rest : (b : Bool) → is_empty type_name.rest ≡ b → Quiet (type_wanted (visible k type_name.first.text) b type_name.first) → Quiet (initial_remark k (held_of (cond b (type_in (visible k type_name.first.text)) None)) initial) → Quiet (initial_wanted (cond b (type_in (visible k type_name.first.text)) None) name initial) → TypeRead k p type_name initial (cond b (type_in (visible k type_name.first.text)) None)
    by_rest true is r q g = object_typed k p name type_name initial (visible k type_name.first.text) w (empty_is type_name.rest is) (visible_fits k w.fits type_name.first.text) (visible_read k p w.agrees type_name.first.text) r q g
    by_rest false is r q g = absurd (not_alone (visible k type_name.first.text) type_name.first r)

    by_root : (b : Bool) → Quiet (cond b (library_remark k type_name.first type_name.rest also library_is_no_value (if_with (is_with k.withs (library_name type_name.first.text type_name.rest)) (library_name type_name.first.text type_name.rest)) type_name.first.spot) (type_wanted (visible k type_name.first.text) (is_empty type_name.rest) type_name.first)) → Quiet (initial_remark k (held_of (cond b None (cond (is_empty type_name.rest) (type_in (visible k type_name.first.text)) None))) initial) → Quiet (initial_wanted (cond b None (cond (is_empty type_name.rest) (type_in (visible k type_name.first.text)) None)) name initial) → TypeRead k p type_name initial (cond b None (cond (is_empty type_name.rest) (type_in (visible k type_name.first.text)) None))
    by_root true r q g = absurd (no_library k.withs (library_name type_name.first.text type_name.rest) type_name.first.spot (if_with (is_with k.withs (library_name type_name.first.text type_name.rest)) (library_name type_name.first.text type_name.rest)) refl r.0 r.1)
    by_root false r q g = by_rest (is_empty type_name.rest) refl r q g

-- an object may be of this type
abbrev pub IsObjectType : Option Entity → Type 0
IsObjectType (Some entity.Integer) = Unit {0}
IsObjectType (Some entity.Boolean) = Unit {0}
IsObjectType (Some (entity.Access t)) = Unit {0}
IsObjectType (Some (entity.Record t size)) = Unit {0}
IsObjectType other = ⊥

-- an object with whose type nothing is wrong is of one of these
pub object_type_is : (k : Known) (type_name : NameTree) → Quiet (object_type_remark k type_name) → IsObjectType (object_type_found k type_name)
unfolding object_type_found object_type_remark
object_type_is k type_name r = by_root (is_library_root type_name.first.text) r
  where
    by_entity : (o : Option Entity) → Quiet (type_wanted o true type_name.first) → IsObjectType (type_in o)
    by_entity None r = absurd r
    by_entity (Some entity.Integer) r = tt
    by_entity (Some entity.Boolean) r = tt
    by_entity (Some (entity.Access a)) r = tt
    by_entity (Some (entity.Record u size)) r = tt
    by_entity (Some e) r = absurd r.1

    by_rest : (b : Bool) → Quiet (type_wanted (visible k type_name.first.text) b type_name.first) → IsObjectType (cond b (type_in (visible k type_name.first.text)) None)
    by_rest true r = by_entity (visible k type_name.first.text) r
    by_rest false r = absurd (not_alone (visible k type_name.first.text) type_name.first r)

    by_root : (b : Bool) → Quiet (cond b (library_remark k type_name.first type_name.rest also library_is_no_value (if_with (is_with k.withs (library_name type_name.first.text type_name.rest)) (library_name type_name.first.text type_name.rest)) type_name.first.spot) (type_wanted (visible k type_name.first.text) (is_empty type_name.rest) type_name.first)) → IsObjectType (cond b None (cond (is_empty type_name.rest) (type_in (visible k type_name.first.text)) None))
    by_root true r = absurd (no_library k.withs (library_name type_name.first.text type_name.rest) type_name.first.spot (if_with (is_with k.withs (library_name type_name.first.text type_name.rest)) (library_name type_name.first.text type_name.rest)) refl r.0 r.1)
    by_root false r = by_rest (is_empty type_name.rest) r
