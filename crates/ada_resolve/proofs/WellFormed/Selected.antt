-- Where nothing is wrong with what is selected behind a variable, it is there.

use Rattle.std.proofs.Common.{◌≡◌, ◌∙◌, ℕ, ◌+◌, ◌<◌, ◌≤◌, Bool, true, false, cond, List, [], ◌∷◌, ◌++◌, length, append_assoc, refl, sym, ap, subst, suc, arith}
use Rattle.std.specs.Prelude.{Option, Some, None, bytes_eq}
use Rattle.std.specs.List.{slice_get}
use Rattle.std.proofs.lemmas.List.{length-append}
use Rattle.ada_text.specs.declared.spot.Spot.{Spot}
use Rattle.ada_tree.specs.Names.{Ident, SelectorTree, component, dereference}
use Rattle.ada_program.specs.declared.program.ComponentKind.{ComponentKind}
use Rattle.ada_program.specs.declared.program.Finalization.{Finalization}
use Rattle.ada_program.specs.declared.program.PartKind.{PartKind}
use Rattle.ada_program.specs.declared.program.PartKind.TheVariants as part
use Rattle.ada_program.specs.declared.program.VariableKind.{VariableKind}
use Rattle.ada_program.specs.declared.program.VariableKind.TheVariants as variable
use Rattle.ada_program.specs.declared.program.TypeNo.{TypeNo}
use Rattle.ada_program.specs.ProgramForm.{PartForm, TypeForm, record_of, access_to, object_of}
use Rattle.ada_program.specs.Controlled as controlled
use Rattle.ada_program.specs.Parts.{HasPart, itself}
use Rattle.ada_program.specs.Walks.{Walks, ends, into}
use Rattle.ada_program.specs.WellFormed as fits
use Rattle.ada_program.proofs.Deep.{component_is, parts_behind}
use Rattle.ada_resolve.specs.declared.fault.NameRule.TheVariants.{WrongType}
use Rattle.ada_resolve.specs.declared.selectors.Reached.{Reached}
use Rattle.ada_resolve.specs.declared.selectors.Reached.TheVariants as reached
use Rattle.ada_resolve.specs.declared.components.KnownComponent.{KnownComponent}
use Rattle.ada_resolve.specs.Known.{Known}
use Rattle.ada_resolve.specs.Paths as path
use Rattle.ada_resolve.specs.Paths.{components_of, elementary_of, elementary_in, known_component, first_behind, part_behind, held_by, number_by, designated_of, component_named, is_incomplete_type, component_in, component_behind, held_in, object_in, object_behind, selector_reached, selectors_reached, variable_reached, whole_object, record_known_by, record_of_object, number_in, component_selected, components_selected, component_wanted, selectable_wanted, component_within_remark, component_behind_remark, complete_behind, all_remark, selector_remark, selectors_remark}
use Rattle.ada_resolve.specs.Records.{kinds_within}
use Rattle.ada_resolve.specs.Remark.{wrong, wrong_if}
use Rattle.ada_resolve.proofs.WellFormed.Names.{TypesFit, text_same}
use Rattle.ada_resolve.proofs.WellFormed.Laid.{RecordHas, append_none, elementary_is, lies}
use Rattle.ada_resolve.proofs.WellFormed.Numbered.{part_lies}
use Rattle.ada_resolve.proofs.WellFormed.Remarks.{Quiet}
use Rattle.ada_resolve.proofs.WellFormed.Tables.{all_get, designated_named}
use Rattle.ada_resolve.proofs.WellFormed.Walked.{walks_on}

-- a component that is found by a name is one of these, by its number, and has the name
abbrev pub IsNamedOf : List ℕ → List PartForm → ℕ → Option (ℕ × KnownComponent) → Type 0
IsNamedOf text cs at None = Unit {0}
IsNamedOf text cs at (Some found) = (j : ℕ) × (c : PartForm) × (found.0 ≡ at + j) × (slice_get cs j ≡ Some c) × (known_component c ≡ found.1) × (c.name ≡ text)

one_further : (text : List ℕ) (c : PartForm) (cs : List PartForm) (at : ℕ) (o : Option (ℕ × KnownComponent)) → IsNamedOf text cs (at + 1) o → IsNamedOf text (c ∷ cs) at o
one_further text c cs at None h = tt
one_further text c cs at (Some found) h = (suc h.0, h.1, h.2 ∙ omega arith, h.3, h.4, h.5)

pub name_at : (at : ℕ) (text : List ℕ) (cs : List PartForm) → IsNamedOf text cs at (component_named at text cs)
name_at at text [] = tt
name_at at text (c ∷ cs) = first_or (bytes_eq text c.name) refl (name_at (at + 1) text cs)
  where
    first_or : (b : Bool) → bytes_eq text c.name ≡ b → IsNamedOf text cs (at + 1) (component_named (at + 1) text cs) → IsNamedOf text (c ∷ cs) at (cond b (Some (at, known_component c)) (component_named (at + 1) text cs))
    first_or true same h = (0, c, omega arith, refl, refl, sym (text_same text c.name same))
    first_or false other h = one_further text c cs at (component_named (at + 1) text cs) h

-- a component that is found is one of these, by its number
abbrev pub IsComponentOf : List PartForm → ℕ → Option (ℕ × KnownComponent) → Type 0
IsComponentOf cs at None = Unit {0}
IsComponentOf cs at (Some found) = (j : ℕ) × (c : PartForm) × (found.0 ≡ at + j) × (slice_get cs j ≡ Some c) × (known_component c ≡ found.1)

pub named_at : (at : ℕ) (text : List ℕ) (cs : List PartForm) → IsComponentOf cs at (component_named at text cs)
named_at at text cs = some_name (component_named at text cs) (name_at at text cs)
  where
    some_name : (o : Option (ℕ × KnownComponent)) → IsNamedOf text cs at o → IsComponentOf cs at o
    some_name None h = tt
    some_name (Some found) h = (h.0, h.1, h.2, h.3, h.4)

-- what an access type designates
pub designated_same : (types : List TypeForm) (access : ℕ) → designated_of types access ≡ fits.designated_type types access
unfolding designated_of
designated_same types access = same (slice_get types access)
  where
    same : (o : Option TypeForm) → path.designated_in o ≡ fits.designated_in o
    same None = refl
    same (Some (record_of name ps cs final)) = refl
    same (Some (access_to name d pool)) = refl
    same (Some (object_of r)) = refl

-- what is known of types stays, where more are declared
abbrev pub Stays : List TypeForm → List TypeForm → Type 0
Stays types more = (t : ℕ) (form : TypeForm) → slice_get types t ≡ Some form → slice_get more t ≡ Some form

pub designated_more : (types more : List TypeForm) (t d : ℕ) → Stays types more → designated_of types t ≡ Some d → designated_of more t ≡ Some d
unfolding designated_of
designated_more types more t d w e = by_form (slice_get types t) refl e
  where
    by_form : (o : Option TypeForm) → slice_get types t ≡ o → path.designated_in o ≡ Some d → path.designated_in (slice_get more t) ≡ Some d
    by_form None is e = absurd (cc e)
    by_form (Some form) is e = ap (λ (o : Option TypeForm). path.designated_in o) (w t form is) ∙ e

-- these elementary components lie in the object behind what is held, the first of them behind as many, and so do as many controlled parts
abbrev pub IsWithin : List TypeForm → Option VariableKind → List ComponentKind → (first from count : ℕ) → Type 0
IsWithin types of kinds first from count =
    (access : ℕ) × (d : ℕ) × (before : List ComponentKind) × (behind : List ComponentKind) × (fits.access_of of ≡ Some access) ×
    (fits.named_in (slice_get types access) ≡ Some d) × (elementary_of types d ≡ before ++ (kinds ++ behind)) × (length before ≡ first) ×
    (from + count ≤ fits.part_count types d)

-- the object behind what is held has a part of a record type, and one with controlled parts is found at this place
abbrev pub IsWalked : List TypeForm → Option VariableKind → (t first from : ℕ) → Type 0
IsWalked types of t first from =
    (d : ℕ) × (fits.object_named types (fits.access_of of) ≡ Some d) × HasPart types t d × (0 < fits.part_count types t → Walks types d first from t)

-- so it is with a component that is a record
abbrev pub KindWalked : List TypeForm → Option VariableKind → PartKind → (first from : ℕ) → Type 0
KindWalked types of (part.Elementary kind) first from = Unit {0}
KindWalked types of (part.Record t) first from = IsWalked types of t.0 first from
KindWalked types of part.Parent first from = Unit {0}

-- what is reached is held there, or is a record within the object behind what is held there
abbrev pub IsReached : List TypeForm → Option VariableKind → Reached → Type 0
IsReached types of reached.Nothing = ⊥
IsReached types of (reached.Value kind) = of ≡ Some kind
IsReached types of (reached.Object t first from) =
    IsWithin types of (elementary_of types t.0) first from (fits.part_count types t.0) × (fits.is_record types t.0 ≡ true) × IsWalked types of t.0 first from

-- a component that is found is one of this record type, and has the name
abbrev pub IsPartOf : List TypeForm → ℕ → List ℕ → (ℕ × KnownComponent) → Type 0
IsPartOf types t text found =
    (name : List ℕ) × (parts : List PartForm) × (components : List ComponentKind) × (final : Option Finalization) × (slice_get types t ≡ Some (record_of name parts components final)) ×
    (slice_get parts found.0 ≡ Some (record { name = text; kind = found.1.kind; first = found.1.first; part = found.1.part }))

-- a name can select it: it is no parent part
abbrev pub IsSelectable : PartKind → Type 0
IsSelectable (part.Elementary kind) = Unit {0}
IsSelectable (part.Record t) = Unit {0}
IsSelectable part.Parent = ⊥

pub is_selectable : (kind : PartKind) (c : Ident) → Quiet (selectable_wanted kind c) → IsSelectable kind
is_selectable (part.Elementary kind) c q = tt
is_selectable (part.Record t) c q = tt
is_selectable part.Parent c q = absurd q

-- it lies in the object behind what is held, where the record type begins behind as many elementary components
abbrev pub IsHeld : List TypeForm → Option VariableKind → (t first from : ℕ) → List ℕ → Option (ℕ × KnownComponent) → Type 0
IsHeld types of t first from text None = ⊥
IsHeld types of t first from text (Some found) =
    IsPartOf types t text found ×
    IsWithin types of (kinds_within types found.1.kind) (first + found.1.first) (from + found.1.part) (fits.parts_within types found.1.kind) ×
    RecordHas (λ u. fits.is_record types u ≡ true) found.1.kind × IsSelectable found.1.kind ×
    KindWalked types of found.1.kind (first + found.1.first) (from + found.1.part)

-- where a type has a component, it is a record type with these
pub has_record : (types : List TypeForm) (t j : ℕ) (c : PartForm) → slice_get (components_of types t) j ≡ Some c → (name : List ℕ) × (parts : List PartForm) × (components : List ComponentKind) × (final : Option Finalization) × (slice_get types t ≡ Some (record_of name parts components final)) × (slice_get parts j ≡ Some c)
unfolding components_of
has_record types t j c e = by_form (slice_get types t) refl e
  where
    by_form : (o : Option TypeForm) → slice_get types t ≡ o → slice_get (path.components_in o) j ≡ Some c → (name : List ℕ) × (parts : List PartForm) × (components : List ComponentKind) × (final : Option Finalization) × (slice_get types t ≡ Some (record_of name parts components final)) × (slice_get parts j ≡ Some c)
    by_form None is e = absurd (cc e)
    by_form (Some (record_of name ps cs final)) is e = (name, ps, cs, final, is, e)
    by_form (Some (access_to name d pool)) is e = absurd (cc e)
    by_form (Some (object_of r)) is e = absurd (cc e)

-- what lies in a part of a part
part_within : (before own middle rest behind : List ComponentKind) → before ++ ((own ++ (middle ++ rest)) ++ behind) ≡ (before ++ own) ++ (middle ++ (rest ++ behind))
part_within before own middle rest behind =
    ap (λ ks. before ++ ks) (append_assoc own (middle ++ rest) behind ∙ ap (λ ks. own ++ ks) (append_assoc middle rest behind)) ∙
    sym (append_assoc before own (middle ++ (rest ++ behind)))

-- a component of a record type within the object
part_is : (types : List TypeForm) (of : Option VariableKind) (t first from : ℕ) (name : List ℕ) (ps : List PartForm) (cs : List ComponentKind) (final : Option Finalization) (j : ℕ) (c : PartForm) → TypesFit types → IsWithin types of (elementary_of types t) first from (fits.part_count types t) → slice_get types t ≡ Some (record_of name ps cs final) → slice_get ps j ≡ Some c → IsWithin types of (kinds_within types c.kind) (first + c.first) (from + c.part) (fits.parts_within types c.kind)
part_is types of t first from name ps cs final j c laid w there at =
    let own = lies types 0 ps cs j c (laid.0 t (record_of name ps cs final) there).0 at in
    let kinds = kinds_within types c.kind in
    let whole : elementary_of types t ≡ own.0 ++ (kinds ++ own.1) = elementary_is types t name ps cs final there ∙ own.2 in
    let place = own.3 in
    let begin = w.7 in
    let long = length-append w.2 own.0 in
    let among = part_lies types t name ps cs final j c laid.1 there at in
    let within = w.8 in
    (w.0, w.1, w.2 ++ own.0, own.1 ++ w.3, w.4, w.5, w.6 ∙ (ap (λ ks. w.2 ++ (ks ++ w.3)) whole ∙ part_within w.2 own.0 kinds own.1 w.3), long ∙ omega (arith, place, begin), omega (arith, among, within))

-- a component that is a record is a part of what its record is a part of, and one with controlled parts is found behind it
some_final : (o : Option Finalization) → 0 < fits.count_said o → (f : Finalization) × (o ≡ Some f)
some_final None some = absurd (omega (arith, some))
some_final (Some f) some = (f, refl)

some_number : (o : Option Finalization) → 0 < fits.count_said o → (m : ℕ) × (controlled.number_in o ≡ Some m)
some_number None some = absurd (omega (arith, some))
some_number (Some f) some = (f.number.0, refl)

part_walks : (types : List TypeForm) (of : Option VariableKind) (t first from : ℕ) (name : List ℕ) (ps : List PartForm) (cs : List ComponentKind) (final : Option Finalization) (j : ℕ) (c : PartForm) → TypesFit types → IsWalked types of t first from → slice_get types t ≡ Some (record_of name ps cs final) → slice_get ps j ≡ Some c → KindWalked types of c.kind (first + c.first) (from + c.part)
part_walks types of t first from name ps cs final j c all w there at = by_kind c.kind refl
  where
    walks_there : (u : TypeNo) → c.kind ≡ part.Record u → 0 < fits.part_count types u.0 → Walks types w.0 (first + c.first) (from + c.part) u.0
    walks_there u is some =
        let own = part_lies types t name ps cs final j c all.1 there at in
        let within : fits.parts_within types c.kind ≡ fits.part_count types u.0 = ap (λ (k : PartKind). fits.parts_within types k) is in
        let said : fits.part_count types t ≡ fits.count_said final = ap (λ (o : Option TypeForm). fits.count_said (fits.finalization_in o)) there in
        let behind = w.3 (omega (arith, own, within, some)) in
        let f = some_final final (omega (arith, own, within, some, said)) in
        let number = some_number (fits.finalization_of types u.0) some in
        let full : slice_get types t ≡ Some (record_of name ps cs (Some f.0)) = there ∙ ap (λ (o : Option Finalization). Some (record_of name ps cs o)) f.1 in
        let step : Walks types t (c.first + 0) (c.part + 0) u.0 = into j 0 0 u.0 number.0 name ps cs f.0 c u full at is number.1 ends in
        let no_first : c.first + 0 ≡ c.first = omega arith in
        let no_part : c.part + 0 ≡ c.part = omega arith in
        walks_on types w.0 first from t c.first c.part u.0 behind
        (subst (λ (n : ℕ). Walks types t n c.part u.0) no_first (subst (λ (n : ℕ). Walks types t (c.first + 0) n u.0) no_part step))

    by_record : (u : TypeNo) → c.kind ≡ part.Record u → IsWalked types of u.0 (first + c.first) (from + c.part)
    by_record u is = (w.0, w.1, parts_behind types t u.0 w.0 w.2 (component_is types t j name ps cs final c u there at is), walks_there u is)

    by_kind : (kind : PartKind) → c.kind ≡ kind → KindWalked types of kind (first + c.first) (from + c.part)
    by_kind (part.Elementary kind) is = tt
    by_kind (part.Record u) is = by_record u is
    by_kind part.Parent is = tt

-- a component of a record type, by what it is and where it lies
abbrev IsSelected : List TypeForm → Option VariableKind → (t first from : ℕ) → List ℕ → ℕ → KnownComponent → Type 0
IsSelected types of t first from text n m =
    IsPartOf types t text (n, m) × IsWithin types of (kinds_within types m.kind) (first + m.first) (from + m.part) (fits.parts_within types m.kind) ×
    RecordHas (λ u. fits.is_record types u ≡ true) m.kind × IsSelectable m.kind × KindWalked types of m.kind (first + m.first) (from + m.part)

held_within : (k : Known) (types : List TypeForm) (of : Option VariableKind) (spot : Spot) (t first from : ℕ) (c : Ident) → TypesFit types → Stays k.types types → IsWithin types of (elementary_of types t) first from (fits.part_count types t) → IsWalked types of t first from → Quiet (component_within_remark k spot (Some t) c) → IsHeld types of t first from c.text (component_in k (Some t) c)
held_within k types of spot t first from c laid w is walked q = complete_or (is_incomplete_type k t) q
  where
    found_or : (o : Option (ℕ × KnownComponent)) → IsNamedOf c.text (components_of k.types t) 0 o → Quiet (component_wanted o c) → IsHeld types of t first from c.text o
    found_or None i q = absurd q
    found_or (Some found) i q =
        let at : found.0 ≡ i.0 = i.2 ∙ omega arith in
        let h = has_record k.types t i.0 i.1 i.3 in
        let there : slice_get types t ≡ Some (record_of h.0 h.1 h.2 h.3) = w t (record_of h.0 h.1 h.2 h.3) h.4 in
        let selectable : IsSelectable i.1.kind = subst (λ (m : KnownComponent). IsSelectable m.kind) (sym i.4) (is_selectable found.1.kind c q) in
        let so : IsSelected types of t first from i.1.name i.0 (known_component i.1) =
        ((h.0, h.1, h.2, h.3, there, h.5), part_is types of t first from h.0 h.1 h.2 h.3 i.0 i.1 laid is there h.5, (laid.0 t (record_of h.0 h.1 h.2 h.3) there).1 i.0 i.1 h.5, selectable, part_walks types of t first from h.0 h.1 h.2 h.3 i.0 i.1 laid walked there h.5) in
        subst (λ (text : List ℕ). IsHeld types of t first from text (Some found)) i.5
        (subst (λ (m : KnownComponent). IsSelected types of t first from i.1.name found.0 m) i.4
        (subst (λ (n : ℕ). IsSelected types of t first from i.1.name n (known_component i.1)) (sym at) so))

    complete_or : (b : Bool) → Quiet (cond b (wrong spot WrongType) (component_wanted (component_named 0 c.text (components_of k.types t)) c)) → IsHeld types of t first from c.text (cond b None (component_named 0 c.text (components_of k.types t)))
    complete_or true q = absurd q
    complete_or false q = found_or (component_named 0 c.text (components_of k.types t)) (name_at 0 c.text (components_of k.types t)) q

-- the objects that values of a type name are records
pub named_record : (types : List TypeForm) (t d : ℕ) → TypesFit types → fits.named_in (slice_get types t) ≡ Some d → fits.is_record types d ≡ true
named_record types t d w e = by_form (slice_get types t) refl e
  where
    by_form : (o : Option TypeForm) → slice_get types t ≡ o → fits.named_in o ≡ Some d → fits.is_record types d ≡ true
    by_form None is e = absurd (cc e)
    by_form (Some (record_of name ps cs final)) is e = absurd (cc e)
    by_form (Some (access_to name u pool)) is e = let same : u ≡ d = cc e in subst (λ (v : ℕ). fits.is_record types v ≡ true) same (all_get (fits.type_fits types) types t (access_to name u pool) w.1 is)
    by_form (Some (object_of u)) is e = let same : u ≡ d = cc e in subst (λ (v : ℕ). fits.is_record types v ≡ true) same (all_get (fits.type_fits types) types t (object_of u) w.1 is)

-- an object behind what is held
object_behind_is : (k : Known) (types : List TypeForm) (of : Option VariableKind) (t : TypeNo) (d : ℕ) → TypesFit types → Stays k.types types → of ≡ Some (variable.Access t) → designated_of k.types t.0 ≡ Some d → IsWithin types of (elementary_of types d) 0 0 (fits.part_count types d) × (fits.is_record types d ≡ true) × IsWalked types of d 0 0
object_behind_is k types of t d all w is e =
    let there : fits.designated_type types t.0 ≡ Some d = sym (designated_same types t.0) ∙ designated_more k.types types t.0 d w e in
    let named_so = designated_named (slice_get types t.0) d there in
    ((t.0, d, [], [], rw is refl, named_so, sym (append_none (elementary_of types d)), refl, omega arith), named_record types t.0 d all named_so, (d, ap (λ (o : Option VariableKind). fits.object_named types (fits.access_of o)) is ∙ named_so, itself, λ some. ends))

-- the record type of a record object, by the type that the object is known by
named_more : (types more : List TypeForm) (object d : ℕ) → Stays types more → record_of_object types object ≡ Some d → fits.named_in (slice_get more object) ≡ Some d
unfolding record_of_object
named_more types more object d w e = by_form (slice_get types object) refl e
  where
    by_form : (o : Option TypeForm) → slice_get types object ≡ o → record_known_by o ≡ Some d → fits.named_in (slice_get more object) ≡ Some d
    by_form None is e = absurd (cc e)
    by_form (Some (record_of name ps cs final)) is e = absurd (cc e)
    by_form (Some (access_to name t pool)) is e = absurd (cc e)
    by_form (Some (object_of r)) is e = rw (w object (object_of r) is) e

-- a record object is reached as a whole
pub whole_is : (k : Known) (types : List TypeForm) (of : Option VariableKind) (object : TypeNo) → TypesFit types → Stays k.types types → of ≡ Some (variable.Record object) → IsReached types of (variable_reached k (variable.Record object))
whole_is k types of object all w is = by_type (record_of_object k.types object.0) refl
  where
    by_type : (o : Option ℕ) → record_of_object k.types object.0 ≡ o → IsReached types of (whole_object o (variable.Record object))
    by_type None e = is
    by_type (Some d) e =
        let named_so = named_more k.types types object.0 d w e in
        ((object.0, d, [], [], rw is refl, named_so, sym (append_none (elementary_of types d)), refl, omega arith), named_record types object.0 d all named_so, (d, ap (λ (o : Option VariableKind). fits.object_named types (fits.access_of o)) is ∙ named_so, itself, λ some. ends))

-- the record type whose component is selected
abbrev pub IsBehind : Known → Reached → ℕ → Type 0
IsBehind k (reached.Value (variable.Access t)) d = designated_of k.types t.0 ≡ Some d
IsBehind k (reached.Object t first from) d = t.0 ≡ d
IsBehind k other d = ⊥

held_designated : (k : Known) (types : List TypeForm) (of : Option VariableKind) (spot : Spot) (t : TypeNo) (c : Ident) (o : Option ℕ) → TypesFit types → Stays k.types types → of ≡ Some (variable.Access t) → designated_of k.types t.0 ≡ o → Quiet (component_within_remark k spot o c) → (d : ℕ) × (o ≡ Some d) × IsHeld types of d 0 0 c.text (component_in k o c)
held_designated k types of spot t c None laid w is e q = absurd q
held_designated k types of spot t c (Some d) laid w is e q =
    let behind = object_behind_is k types of t d laid w is e in (d, refl, held_within k types of spot d 0 0 c laid w behind.0 behind.2 q)

pub held_behind : (k : Known) (types : List TypeForm) (of : Option VariableKind) (spot : Spot) (at : Reached) (c : Ident) → TypesFit types → Stays k.types types → IsReached types of at → Quiet (component_behind_remark k spot at c) → (d : ℕ) × IsBehind k at d × IsHeld types of d (first_behind at) (part_behind at) c.text (component_behind k at c)
held_behind k types of spot reached.Nothing c laid w is q = absurd is
held_behind k types of spot (reached.Value (variable.Access t)) c laid w is q = held_designated k types of spot t c (designated_of k.types t.0) laid w is refl q
held_behind k types of spot (reached.Object t first from) c laid w is q = (t.0, refl, held_within k types of spot t.0 first from c laid w is.0 is.2 q)
held_behind k types of spot at c laid w is q = absurd q

-- an elementary component holds what its kind says
get_behind : (xs ys : List ComponentKind) (kind : ComponentKind) → slice_get (xs ++ (kind ∷ ys)) (length xs) ≡ Some kind
get_behind [] ys kind = refl
get_behind (x ∷ xs) ys kind = get_behind xs ys kind

kind_in_record : (types : List TypeForm) (d n : ℕ) (kind : ComponentKind) → slice_get (elementary_of types d) n ≡ Some kind → fits.kind_among (fits.record_components types d) n ≡ Some (fits.held_kind kind)
unfolding elementary_of
kind_in_record types d n kind e = by_form (slice_get types d) refl e
  where
    by_form : (o : Option TypeForm) → slice_get types d ≡ o → slice_get (elementary_in o) n ≡ Some kind → fits.kind_among (fits.components_in o) n ≡ Some (fits.held_kind kind)
    by_form None is e = absurd (cc e)
    by_form (Some (record_of name ps cs final)) is e = rw e refl
    by_form (Some (access_to name u pool)) is e = absurd (cc e)
    by_form (Some (object_of r)) is e = absurd (cc e)

kind_is_behind : (types : List TypeForm) (of : Option VariableKind) (n from count : ℕ) (kind : ComponentKind) → IsWithin types of (kind ∷ []) n from count → fits.kind_behind types (fits.access_of of) n ≡ Some (fits.held_kind kind)
kind_is_behind types of n from count kind w =
    let there : slice_get (elementary_of types w.1) n ≡ Some kind =
    ap (λ ks. slice_get ks n) w.6 ∙ (ap (λ m. slice_get (w.2 ++ (kind ∷ w.3)) m) (sym w.7) ∙ get_behind w.2 w.3 kind) in
    rw w.4 (rw w.5 (kind_in_record types w.1 n kind there))

pub held_reached : (types : List TypeForm) (of : Option VariableKind) (d first from : ℕ) (text : List ℕ) (o : Option (ℕ × KnownComponent)) → IsHeld types of d first from text o → IsReached types (fits.selectors_kind types of (number_in first o)) (held_in first from o)
held_reached types of d first from text None h = absurd h
held_reached types of d first from text (Some found) h = by_kind found.1.kind h.1 h.2 h.3 h.4
  where
    by_kind : (kind : PartKind) → IsWithin types of (kinds_within types kind) (first + found.1.first) (from + found.1.part) (fits.parts_within types kind) → RecordHas (λ u. fits.is_record types u ≡ true) kind → IsSelectable kind → KindWalked types of kind (first + found.1.first) (from + found.1.part) → IsReached types (fits.selectors_kind types of (number_by kind (first + found.1.first))) (held_by kind (first + found.1.first) (from + found.1.part))
    by_kind (part.Elementary kind) w r s walked = kind_is_behind types of (first + found.1.first) (from + found.1.part) 0 kind w
    by_kind (part.Record t) w r s walked = (w, r, walked)
    by_kind part.Parent w r s walked = absurd s

-- `all`
object_designated : (k : Known) (types : List TypeForm) (of : Option VariableKind) (spot : Spot) (t : TypeNo) (o : Option ℕ) → TypesFit types → Stays k.types types → of ≡ Some (variable.Access t) → designated_of k.types t.0 ≡ o → Quiet (complete_behind k spot o) → IsReached types of (object_in k o)
object_designated k types of spot t None all w is e q = absurd q
object_designated k types of spot t (Some d) all w is e q = complete_or (is_incomplete_type k d) q
  where
    complete_or : (b : Bool) → Quiet (wrong_if b spot WrongType) → IsReached types of (cond b reached.Nothing (reached.Object (record { 0 = d }) 0 0))
    complete_or true q = absurd q
    complete_or false q = object_behind_is k types of t d all w is e

pub object_is : (k : Known) (types : List TypeForm) (of : Option VariableKind) (spot : Spot) (at : Reached) → TypesFit types → Stays k.types types → IsReached types of at → Quiet (all_remark k spot at) → IsReached types of (object_behind k at)
object_is k types of spot reached.Nothing all w is q = absurd is
object_is k types of spot (reached.Value (variable.Access t)) all w is q = object_designated k types of spot t (designated_of k.types t.0) all w is refl q
object_is k types of spot at all w is q = absurd q

-- selectors, one behind the other
selector_is : (k : Known) (types : List TypeForm) (of : Option VariableKind) (spot : Spot) (at : Reached) (s : SelectorTree) → TypesFit types → Stays k.types types → IsReached types of at → Quiet (selector_remark k spot at s) → IsReached types (fits.selectors_kind types of (component_selected k at s)) (selector_reached k at s)
selector_is k types of spot at (component c) laid w is q =
    let h = held_behind k types of spot at c laid w is q in held_reached types of h.0 (first_behind at) (part_behind at) c.text (component_behind k at c) h.2
selector_is k types of spot at (dereference all) laid w is q = object_is k types of spot at laid w is q

kind_after : (types : List TypeForm) (of : Option VariableKind) (xs ys : List ℕ) → fits.selectors_kind types of (xs ++ ys) ≡ fits.selectors_kind types (fits.selectors_kind types of xs) ys
kind_after types of [] ys = refl
kind_after types of (x ∷ xs) ys = kind_after types (fits.selected_kind types of x) xs ys

pub selectors_are : (k : Known) (types : List TypeForm) (of : Option VariableKind) (spot : Spot) (at : Reached) (ss : List SelectorTree) → TypesFit types → Stays k.types types → IsReached types of at → Quiet (selectors_remark k spot at ss) → IsReached types (fits.selectors_kind types of (components_selected k at ss)) (selectors_reached k at ss)
selectors_are k types of spot at [] laid w is q = is
selectors_are k types of spot at (s ∷ ss) laid w is q =
    let first = component_selected k at s in
    let next = selector_reached k at s in
    subst (λ (kind : Option VariableKind). IsReached types kind (selectors_reached k next ss)) (sym (kind_after types of first (components_selected k next ss)))
    (selectors_are k types (fits.selectors_kind types of first) spot next ss laid w (selector_is k types of spot at s laid w is q.0) q.1)
