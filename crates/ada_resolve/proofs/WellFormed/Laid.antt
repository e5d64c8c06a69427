-- The components of record types lie one behind the other, and stay so as types are declared.

use Rattle.std.proofs.Common.{◌≡◌, ◌∙◌, ℕ, ◌+◌, true, false, List, [], ◌∷◌, ◌++◌, length, append_assoc, refl, sym, ap, subst, zero, suc, arith}
use Rattle.std.specs.Prelude.{Option, Some, None}
use Rattle.std.specs.List.{slice_get, slice_set}
use Rattle.std.proofs.lemmas.List.{length-append}
use Rattle.ada_program.specs.declared.program.ComponentKind.{ComponentKind}
use Rattle.ada_program.specs.declared.program.Finalization.{Finalization}
use Rattle.ada_program.specs.declared.program.PartKind.{PartKind}
use Rattle.ada_program.specs.declared.program.PartKind.TheVariants as part
use Rattle.ada_program.specs.ProgramForm.{PartForm, TypeForm, record_of, access_to, object_of}
use Rattle.ada_program.specs.WellFormed as fits
use Rattle.ada_resolve.specs.Naming.{AreLaidOut}
use Rattle.ada_resolve.specs.Paths.{elementary_of, elementary_in}
use Rattle.ada_resolve.specs.Records.{kinds_within}
use Rattle.ada_resolve.proofs.WellFormed.Tables.{each_more, each_set, get_more, get_other, record_more, record_other}

-- so it is with each of these components
abbrev pub OfParts : (PartKind → Type 0) → List PartForm → Type 0
OfParts P ps = (i : ℕ) (c : PartForm) → slice_get ps i ≡ Some c → P c.kind

-- so it is with the type of a component that is a record
abbrev pub RecordHas : (ℕ → Type 0) → PartKind → Type 0
RecordHas P (part.Elementary kind) = Unit {0}
RecordHas P (part.Record t) = P t.0
RecordHas P part.Parent = Unit {0}

pub record_has : (P Q : ℕ → Type 0) → ((t : ℕ) → P t → Q t) → (kind : PartKind) → RecordHas P kind → RecordHas Q kind
record_has P Q w (part.Elementary kind) h = tt
record_has P Q w (part.Record t) h = w t.0 h
record_has P Q w part.Parent h = tt

pub record_has_both : (P Q R : ℕ → Type 0) → ((t : ℕ) → P t → Q t → R t) → (kind : PartKind) → RecordHas P kind → RecordHas Q kind → RecordHas R kind
record_has_both P Q R w (part.Elementary kind) h g = tt
record_has_both P Q R w (part.Record t) h g = w t.0 h g
record_has_both P Q R w part.Parent h g = tt

-- the components of a type lie one behind the other, and records among them are of types that are there; so is a record object
abbrev pub IsLaid : List TypeForm → TypeForm → Type 0
IsLaid types (record_of name ps cs final) = AreLaidOut types 0 ps cs × OfParts (RecordHas (λ t. fits.is_record types t ≡ true)) ps
IsLaid types (access_to name d pool) = Unit {0}
IsLaid types (object_of r) = fits.is_record types r ≡ true

-- and so in each type
abbrev pub AreRecordsLaid : List TypeForm → Type 0
AreRecordsLaid types = (t : ℕ) (form : TypeForm) → slice_get types t ≡ Some form → IsLaid types form

-- no component of a type is a record of the type of this number, nor is a record object that is known by the type
abbrev pub Avoids : ℕ → TypeForm → Type 0
Avoids t (record_of name ps cs final) = OfParts (RecordHas (λ u. u ≡ t → ⊥)) ps
Avoids t (access_to name d pool) = Unit {0}
Avoids t (object_of r) = r ≡ t → ⊥

-- and so in each type
abbrev pub IsUnused : List TypeForm → ℕ → Type 0
IsUnused types t = (u : ℕ) (form : TypeForm) → slice_get types u ≡ Some form → Avoids t form

-- a list behind which nothing stands
pub append_none : {X : Type 0} (xs : List X) → xs ++ [] ≡ xs
append_none [] = refl
append_none (x ∷ xs) = ap (λ ys. x ∷ ys) (append_none xs)

-- the elementary components of a record type
pub elementary_is : (types : List TypeForm) (t : ℕ) (name : List ℕ) (ps : List PartForm) (cs : List ComponentKind) (final : Option Finalization) → slice_get types t ≡ Some (record_of name ps cs final) → elementary_of types t ≡ cs
unfolding elementary_of
elementary_is types t name ps cs final is = rw is refl

pub elementary_same : (types more : List TypeForm) (t : ℕ) → slice_get more t ≡ slice_get types t → elementary_of more t ≡ elementary_of types t
unfolding elementary_of
elementary_same types more t e = ap elementary_in e

-- where a component lies
pub lies : (types : List TypeForm) (n : ℕ) (ps : List PartForm) (cs : List ComponentKind) (i : ℕ) (c : PartForm) → AreLaidOut types n ps cs → slice_get ps i ≡ Some c → (before : List ComponentKind) × (behind : List ComponentKind) × (cs ≡ before ++ (kinds_within types c.kind ++ behind)) × (c.first ≡ n + length before)
lies types n [] cs i c w e = absurd (cc e)
lies types n (p ∷ ps) cs zero c w e =
    let same : p ≡ c = cc e in
    subst (λ (d : PartForm). (before : List ComponentKind) × (behind : List ComponentKind) × (cs ≡ before ++ (kinds_within types d.kind ++ behind)) × (d.first ≡ n + length before)) same
    ([], w.1, w.2, w.0 ∙ omega arith)
lies types n (p ∷ ps) cs (suc i) c w e =
    let own = kinds_within types p.kind in
    let h = lies types (n + length own) ps w.1 i c w.3 e in
    (own ++ h.0, h.1, w.2 ∙ (ap (λ ks. own ++ ks) h.2 ∙ sym (append_assoc own h.0 (kinds_within types c.kind ++ h.1))), let long = length-append own h.0 in h.3 ∙ omega (arith, long))

-- one more component, behind the others
pub laid_more : (types : List TypeForm) (n : ℕ) (ps : List PartForm) (cs : List ComponentKind) (c : PartForm) → AreLaidOut types n ps cs → c.first ≡ n + length cs → AreLaidOut types n (ps ++ c ∷ []) (cs ++ kinds_within types c.kind)
laid_more types n [] cs c w e = (e ∙ (ap (λ ks. n + length ks) w ∙ omega arith), [], ap (λ ks. ks ++ kinds_within types c.kind) w ∙ sym (append_none (kinds_within types c.kind)), refl)
laid_more types n (p ∷ ps) cs c w e =
    let own = kinds_within types p.kind in
    let more = kinds_within types c.kind in
    let long : length cs ≡ length own + length w.1 = ap (λ ks. length ks) w.2 ∙ length-append own w.1 in
    (w.0, w.1 ++ more, ap (λ ks. ks ++ more) w.2 ∙ append_assoc own w.1 more, laid_more types (n + length own) ps w.1 c w.3 (e ∙ omega (arith, long)))

-- components stay so where the types of records among them have the same components
within_same : (types more : List TypeForm) (kind : PartKind) → RecordHas (λ t. elementary_of more t ≡ elementary_of types t) kind → kinds_within more kind ≡ kinds_within types kind
within_same types more (part.Elementary kind) h = refl
within_same types more (part.Record t) h = h
within_same types more part.Parent h = refl

pub laid_stays : (types more : List TypeForm) (n : ℕ) (ps : List PartForm) (cs : List ComponentKind) → OfParts (RecordHas (λ t. elementary_of more t ≡ elementary_of types t)) ps → AreLaidOut types n ps cs → AreLaidOut more n ps cs
laid_stays types more n [] cs w l = l
laid_stays types more n (p ∷ ps) cs w l =
    let same : kinds_within more p.kind ≡ kinds_within types p.kind = within_same types more p.kind (w 0 p refl) in (
      l.0,
      l.1,
      l.2 ∙ ap (λ ks. ks ++ l.1) (sym same),
      subst (λ (ks : List ComponentKind). AreLaidOut more (n + length ks) ps l.1) (sym same) (laid_stays types more (n + length (kinds_within types p.kind)) ps l.1 (λ i. w (suc i)) l.3),
    )

-- one more type
record_same : (types : List TypeForm) (form : TypeForm) (t : ℕ) → fits.is_record types t ≡ true → elementary_of (types ++ form ∷ []) t ≡ elementary_of types t
record_same types form t e = by_form (slice_get types t) refl e
  where
    by_form : (o : Option TypeForm) → slice_get types t ≡ o → fits.is_record types t ≡ true → elementary_of (types ++ form ∷ []) t ≡ elementary_of types t
    by_form None is e = let no : fits.is_record types t ≡ false = rw is refl in absurd (cc (no, e))
    by_form (Some x) is e = elementary_same types (types ++ form ∷ []) t (get_more types form t x is ∙ sym is)

pub form_laid_more : (types : List TypeForm) (form x : TypeForm) → IsLaid types x → IsLaid (types ++ form ∷ []) x
form_laid_more types form (record_of name ps cs final) l = (
  laid_stays types (types ++ form ∷ []) 0 ps cs (λ i c is. record_has (λ t. fits.is_record types t ≡ true) (λ t. elementary_of (types ++ form ∷ []) t ≡ elementary_of types t) (record_same types form) c.kind (l.1 i c is)) l.0,
  λ i c is. record_has (λ t. fits.is_record types t ≡ true) (λ t. fits.is_record (types ++ form ∷ []) t ≡ true) (record_more types form) c.kind (l.1 i c is),
)
form_laid_more types form (access_to name d pool) l = tt
form_laid_more types form (object_of r) l = record_more types form r l

pub records_laid_more : (types : List TypeForm) (form : TypeForm) → AreRecordsLaid types → IsLaid types form → AreRecordsLaid (types ++ form ∷ [])
records_laid_more types form all own =
    each_more (IsLaid (types ++ form ∷ [])) types form (λ t x is. form_laid_more types form x (all t x is)) (form_laid_more types form form own)

-- another definition for a type that no component is a record of
other_same : (types : List TypeForm) (i : ℕ) (form : TypeForm) (t : ℕ) → (t ≡ i → ⊥) → elementary_of (slice_set types i form) t ≡ elementary_of types t
other_same types i form t ne = elementary_same types (slice_set types i form) t (get_other types i t form (λ same. ne (sym same)))

pub form_laid_set : (types : List TypeForm) (i : ℕ) (form x : TypeForm) → Avoids i x → IsLaid types x → IsLaid (slice_set types i form) x
form_laid_set types i form (record_of name ps cs final) a l = (
  laid_stays types (slice_set types i form) 0 ps cs (λ j c is. record_has (λ t. t ≡ i → ⊥) (λ t. elementary_of (slice_set types i form) t ≡ elementary_of types t) (other_same types i form) c.kind (a j c is)) l.0,
  λ j c is. record_has_both (λ t. t ≡ i → ⊥) (λ t. fits.is_record types t ≡ true) (λ t. fits.is_record (slice_set types i form) t ≡ true) (λ t ne there. record_other types i form t (λ same. ne (sym same)) there) c.kind (a j c is) (l.1 j c is),
)
form_laid_set types i form (access_to name d pool) a l = tt
form_laid_set types i form (object_of r) a l = record_other types i form r (λ same. a (sym same)) l

pub records_laid_set : (types : List TypeForm) (i : ℕ) (form : TypeForm) → IsUnused types i → AreRecordsLaid types → Avoids i form → IsLaid types form → AreRecordsLaid (slice_set types i form)
records_laid_set types i form unused all avoids own =
    each_set (IsLaid (slice_set types i form)) types i form (λ t x is. form_laid_set types i form x (unused t x is) (all t x is)) (form_laid_set types i form form avoids own)

-- a type that is not there is one of no component
pub new_unused : (types : List TypeForm) → AreRecordsLaid types → IsUnused types (length types)
new_unused types all u form is = by_form form (all u form is)
  where
    absent : (t : ℕ) → fits.is_record types t ≡ true → t ≡ length types → ⊥
    absent t there same = let no : fits.is_record types t ≡ false = rw (same, none_at types) refl in cc (no, there)
      where
        none_at : (xs : List TypeForm) → slice_get xs (length xs) ≡ None
        none_at [] = refl
        none_at (x ∷ xs) = none_at xs

    by_form : (x : TypeForm) → IsLaid types x → Avoids (length types) x
    by_form (record_of name ps cs final) l = λ i c at. record_has (λ t. fits.is_record types t ≡ true) (λ t. t ≡ length types → ⊥) absent c.kind (l.1 i c at)
    by_form (access_to name d pool) l = tt
    by_form (object_of r) l = absent r l

pub unused_more : (types : List TypeForm) (form : TypeForm) (t : ℕ) → IsUnused types t → Avoids t form → IsUnused (types ++ form ∷ []) t
unused_more types form t all own = each_more (Avoids t) types form all own

pub unused_set : (types : List TypeForm) (i : ℕ) (form : TypeForm) (t : ℕ) → IsUnused types t → Avoids t form → IsUnused (slice_set types i form) t
unused_set types i form t all own = each_set (Avoids t) types i form all own
