-- Which collections are open at a place (7.6.1): those of the parts around it. What is said of a place names them, by the numbers of their
-- access types, in the list `around`. All are created before the place, so their numbers are below that of any type that is declared from there on.

use Rattle.std.proofs.Common.{◌≡◌, ◌∙◌, ℕ, ◌<◌, ◌≤◌, Bool, true, false, cond, List, [], ◌∷◌, ◌++◌, length, refl, sym, ap, subst, eqb, eqb-true, eq-eqb, arith}
use Rattle.std.specs.Prelude.{Option, Some, None, ◌||◌, bytes_eq, codes}
use Rattle.std.specs.List.{list_all, slice_get}
use Rattle.ada_program.specs.declared.program.ComponentKind.{ComponentKind}
use Rattle.ada_program.specs.declared.program.ComponentKind.TheVariants as component
use Rattle.ada_program.specs.declared.program.Exception.TheVariants.{ConstraintError, ProgramError, StorageError}
use Rattle.ada_program.specs.Form.{DeclarationForm, creates_pool, collects, declares, declares_record}
use Rattle.ada_program.specs.Nested.{collected, is_one_of, kind_is_open, record_objects}
use Rattle.ada_program.specs.declared.program.Finalization.{Finalization}
use Rattle.ada_program.specs.ProgramForm.{PartForm, TypeForm, record_of, access_to, object_of}
use Rattle.ada_resolve.specs.declared.library.Withs.{Withs}
use Rattle.ada_resolve.specs.declared.scope.Entity.{Entity}
use Rattle.ada_resolve.specs.declared.scope.Entity.TheVariants as entity
use Rattle.ada_resolve.specs.Instances.{is_collected}
use Rattle.ada_resolve.specs.Known.{Known, Named, Part, named, from_part, named_in, inner_first, outermost, unit_named, visible, parts}
use Rattle.ada_resolve.specs.Library.{predefined}
use Rattle.ada_resolve.proofs.WellFormed.Forms.{bare_final, forms, get_form, record_there}
use Rattle.ada_resolve.proofs.WellFormed.Names.{first_of_two, within_of, unit_only}
use Rattle.ada_resolve.proofs.WellFormed.Tables.{all_weaker, both_parts, first_part, second_part}

-- the record type of a number is there, and its components name collections that are open around
abbrev pub RecordOpen : (around : List ℕ) → List TypeForm → ℕ → Type 0
RecordOpen around types t =
    (name : List ℕ) × (ps : List PartForm) × (cs : List ComponentKind) × (final : Option Finalization) × (slice_get types t ≡ Some (record_of name ps cs final)) × (list_all (kind_is_open around) cs ≡ true)

-- what a name of a part around stands for: an access type whose collection is open, or a record type that names such ones alone
abbrev pub EntityOpen : (around : List ℕ) → List TypeForm → Entity → Type 0
EntityOpen around types (entity.Incomplete t) = ⊥
EntityOpen around types (entity.Record t size) = RecordOpen around types t.0
EntityOpen around types (entity.Access t) = is_one_of around t.0 ≡ true
EntityOpen around types e = Unit {0}

-- so each name
abbrev pub NamesOpen : (around : List ℕ) → List TypeForm → List Named → Type 0
NamesOpen around types names = (text : List ℕ) (e : Entity) → named text names ≡ Some e → EntityOpen around types e

-- so each name of each part
abbrev pub PartsOpen : (around : List ℕ) → List TypeForm → List Part → Type 0
PartsOpen around types [] = Unit {0}
PartsOpen around types (part ∷ outer) = NamesOpen around types part.names × PartsOpen around types outer

-- where statements stand, these collections are open: they are those of access types that are there, and what is visible names no others
pub record OpenAt (around : List ℕ) (k : Known) : Type 0 where
  pub before : (a : ℕ) → is_one_of around a ≡ true → a < length k.types
  pub names : PartsOpen around k.types (parts k)

-- a component names an access type of the part whose first type has this number, or one whose collection is open around the part
abbrev pub KindLies : (around : List ℕ) → ℕ → ComponentKind → Type 0
KindLies around n (component.Integer initial) = Unit {0}
KindLies around n (component.Boolean initial) = Unit {0}
KindLies around n (component.Access t) = t.0 < n → is_one_of around t.0 ≡ true

-- so each component
abbrev pub ComponentsLie : (around : List ℕ) → ℕ → List ComponentKind → Type 0
ComponentsLie around n [] = Unit {0}
ComponentsLie around n (kind ∷ kinds) = KindLies around n kind × ComponentsLie around n kinds

-- a type of the part: a record type with such components, or an access type or that of a record object, whose record type is one of the part or one
-- that is open around it
abbrev pub FormLies : (around : List ℕ) → ℕ → List TypeForm → TypeForm → Type 0
FormLies around n types (record_of name ps cs final) = ComponentsLie around n cs
FormLies around n types (access_to name d pool) = d < n → RecordOpen around types d
FormLies around n types (object_of r) = r < n → RecordOpen around types r

-- so each type of the part
abbrev pub FormsLie : (around : List ℕ) → ℕ → List TypeForm → Type 0
FormsLie around n types = (t : ℕ) (form : TypeForm) → n ≤ t → slice_get types t ≡ Some form → FormLies around n types form

-- what a name of the part stands for: a type of the part, if it is a type
abbrev pub IsOwnType : ℕ → Entity → Type 0
IsOwnType n (entity.Incomplete t) = n ≤ t.0
IsOwnType n (entity.Record t size) = n ≤ t.0
IsOwnType n (entity.Access t) = n ≤ t.0
IsOwnType n e = Unit {0}

-- what a part elaborates so far: each of its record objects is known by a type of the part
abbrev pub ObjectsLie : ℕ → List TypeForm → List DeclarationForm → Type 0
ObjectsLie n types es = (o : ℕ) → is_one_of (record_objects es) o ≡ true → (n ≤ o) × (r : ℕ) × (slice_get types o ≡ Some (object_of r))

-- among the declarations of a part, these collections are open around it: those of access types before the part's first, all that is visible of
-- the parts around; and what its own types name is its own, or open around it
pub record OpenAround (around : List ℕ) (k : Known) : Type 0 where
  pub before : (a : ℕ) → is_one_of around a ≡ true → a < k.here.first_type
  pub outer : PartsOpen around k.types k.outer
  pub own : (text : List ℕ) (e : Entity) → named text k.here.names ≡ Some e → IsOwnType k.here.first_type e
  pub forms : FormsLie around k.here.first_type k.types
  pub objects : ObjectsLie k.here.first_type k.types k.here.elaborated

-- what is visible among the declarations of a part: of the part, or open around it
abbrev pub EntityLies : (around : List ℕ) → ℕ → List TypeForm → Entity → Type 0
EntityLies around n types (entity.Incomplete t) = t.0 < n → RecordOpen around types t.0
EntityLies around n types (entity.Record t size) = t.0 < n → RecordOpen around types t.0
EntityLies around n types (entity.Access t) = t.0 < n → is_one_of around t.0 ≡ true
EntityLies around n types e = Unit {0}

own_lies : (around : List ℕ) (n : ℕ) (types : List TypeForm) (e : Entity) → IsOwnType n e → EntityLies around n types e
own_lies around n types (entity.Incomplete t) own = λ less. absurd (omega (arith, own, less))
own_lies around n types (entity.Record t size) own = λ less. absurd (omega (arith, own, less))
own_lies around n types (entity.Access t) own = λ less. absurd (omega (arith, own, less))
own_lies around n types e own = tt

open_lies : (around : List ℕ) (n : ℕ) (types : List TypeForm) (e : Entity) → EntityOpen around types e → EntityLies around n types e
open_lies around n types (entity.Incomplete t) w = absurd w
open_lies around n types (entity.Record t size) w = λ less. w
open_lies around n types (entity.Access t) w = λ less. w
open_lies around n types e w = tt

parts_lie : (around : List ℕ) (n : ℕ) (types : List TypeForm) (ps : List Part) → PartsOpen around types ps → (text : List ℕ) (e : Entity) → named_in text ps ≡ Some e → EntityLies around n types e
parts_lie around n types [] w text e is = absurd (cc is)
parts_lie around n types (p ∷ ps) w text e is =
    first_of_two (EntityLies around n types) (named text p.names) (from_part p.around (named_in text ps)) e (λ x there. open_lies around n types x (w.0 text x there))
    (λ x there. within_of (EntityLies around n types) p.around (named_in text ps) x (λ kind r. tt) (parts_lie around n types ps w.1 text) there) is

-- nothing predefined is a record type or an access type
standard_lies : (around : List ℕ) (n : ℕ) (types : List TypeForm) (x : Entity) (a b c d f g h : Bool) → cond a (Some entity.Integer) (cond b (Some entity.Boolean) (cond c (Some (entity.Truth true)) (cond d (Some (entity.Truth false)) (cond f (Some (entity.Exception ConstraintError)) (cond g (Some (entity.Exception ProgramError)) (cond h (Some (entity.Exception StorageError)) None)))))) ≡ Some x → EntityLies around n types x
standard_lies around n types x true b c d f g h e = let is : entity.Integer ≡ x = cc e in rw (sym is) tt
standard_lies around n types x false true c d f g h e = let is : entity.Boolean ≡ x = cc e in rw (sym is) tt
standard_lies around n types x false false true d f g h e = let is : entity.Truth true ≡ x = cc e in rw (sym is) tt
standard_lies around n types x false false false true f g h e = let is : entity.Truth false ≡ x = cc e in rw (sym is) tt
standard_lies around n types x false false false false true g h e = let is : entity.Exception ConstraintError ≡ x = cc e in rw (sym is) tt
standard_lies around n types x false false false false false true h e = let is : entity.Exception ProgramError ≡ x = cc e in rw (sym is) tt
standard_lies around n types x false false false false false false true e = let is : entity.Exception StorageError ≡ x = cc e in rw (sym is) tt
standard_lies around n types x false false false false false false false e = absurd (cc e)

predefined_lies : (around : List ℕ) (n : ℕ) (types : List TypeForm) (text : List ℕ) (x : Entity) → predefined text ≡ Some x → EntityLies around n types x
unfolding predefined
predefined_lies around n types text x e =
    standard_lies around n types x (bytes_eq text (codes "INTEGER")) (bytes_eq text (codes "BOOLEAN")) (bytes_eq text (codes "TRUE")) (bytes_eq text (codes "FALSE"))
    (bytes_eq text (codes "CONSTRAINT_ERROR")) (bytes_eq text (codes "PROGRAM_ERROR")) (bytes_eq text (codes "STORAGE_ERROR")) e

inner_lies : (around : List ℕ) (n : ℕ) (types : List TypeForm) (withs : Withs) (text : List ℕ) (x : Entity) (own : Option Entity) (b : Bool) → ((y : Entity) → own ≡ Some y → EntityLies around n types y) → inner_first own b (outermost withs text) ≡ Some x → EntityLies around n types x
inner_lies around n types withs text x (Some y) b w e = let is : y ≡ x = cc e in rw (sym is) (w y refl)
inner_lies around n types withs text x None true w e = let is : entity.Procedure ≡ x = cc e in rw (sym is) tt
inner_lies around n types withs text x None false w e =
    first_of_two (EntityLies around n types) (predefined text) (unit_named withs text) x (predefined_lies around n types text)
    (λ y. unit_only (EntityLies around n types) withs text y tt) e

-- what is visible among the declarations of a part
pub visible_lies : (around : List ℕ) (k : Known) → OpenAround around k → (text : List ℕ) (e : Entity) → visible k text ≡ Some e → EntityLies around k.here.first_type k.types e
unfolding visible
visible_lies around k w text e is =
    let n = k.here.first_type in
    inner_lies around n k.types k.withs text e (named_in text (parts k)) (bytes_eq text k.procedure)
    (λ x there. first_of_two (EntityLies around n k.types) (named text k.here.names) (from_part k.here.around (named_in text k.outer)) x
    (λ y at. own_lies around n k.types y (w.own text y at))
    (λ y at. within_of (EntityLies around n k.types) k.here.around (named_in text k.outer) y (λ kind r. tt) (parts_lie around n k.types k.outer w.outer text) at) there) is

-- what is visible where statements or objects stand
pub visible_open : (around : List ℕ) (n : ℕ) (k : Known) → PartsOpen around k.types (parts k) → (text : List ℕ) (e : Entity) → visible k text ≡ Some e → EntityLies around n k.types e
unfolding visible
visible_open around n k w text e is =
    inner_lies around n k.types k.withs text e (named_in text (parts k)) (bytes_eq text k.procedure) (λ x there. parts_lie around n k.types (parts k) w text x there) is

-- more collections that are open
one_or : (b c d : Bool) → (b || (c || d)) ≡ ((b || c) || d)
one_or true c d = refl
one_or false c d = refl

pub one_of_both : (us vs : List ℕ) (t : ℕ) → is_one_of (us ++ vs) t ≡ (is_one_of us t || is_one_of vs t)
one_of_both [] vs t = refl
one_of_both (u ∷ us) vs t = ap (λ b. eqb u t || b) (one_of_both us vs t) ∙ one_or (eqb u t) (is_one_of us t) (is_one_of vs t)

left_or : (b c : Bool) → b ≡ true → (b || c) ≡ true
left_or true c e = refl
left_or false c e = absurd (cc e)

pub right_or : (b c : Bool) → c ≡ true → (b || c) ≡ true
right_or true c e = refl
right_or false c e = e

pub one_of_first : (us vs : List ℕ) (t : ℕ) → is_one_of us t ≡ true → is_one_of (us ++ vs) t ≡ true
one_of_first us vs t e = one_of_both us vs t ∙ left_or (is_one_of us t) (is_one_of vs t) e

pub one_of_second : (us vs : List ℕ) (t : ℕ) → is_one_of vs t ≡ true → is_one_of (us ++ vs) t ≡ true
one_of_second us vs t e = one_of_both us vs t ∙ right_or (is_one_of us t) (is_one_of vs t) e

kind_opener : (us vs : List ℕ) (k : ComponentKind) → kind_is_open vs k ≡ true → kind_is_open (us ++ vs) k ≡ true
kind_opener us vs (component.Integer initial) e = refl
kind_opener us vs (component.Boolean initial) e = refl
kind_opener us vs (component.Access t) e = one_of_second us vs t.0 e

pub record_opener : (us vs : List ℕ) (types : List TypeForm) (t : ℕ) → RecordOpen vs types t → RecordOpen (us ++ vs) types t
record_opener us vs types t w =
    (w.0, w.1, w.2, w.3, w.4, all_weaker (kind_is_open vs) (kind_is_open (us ++ vs)) (kind_opener us vs) w.2 w.5)

entity_opener : (us vs : List ℕ) (types : List TypeForm) (e : Entity) → EntityOpen vs types e → EntityOpen (us ++ vs) types e
entity_opener us vs types (entity.Incomplete t) w = w
entity_opener us vs types (entity.Record t size) w = record_opener us vs types t.0 w
entity_opener us vs types (entity.Access t) w = one_of_second us vs t.0 w
entity_opener us vs types e w = tt

pub parts_opener : (us vs : List ℕ) (types : List TypeForm) (ps : List Part) → PartsOpen vs types ps → PartsOpen (us ++ vs) types ps
parts_opener us vs types [] w = tt
parts_opener us vs types (p ∷ ps) w = (λ text e is. entity_opener us vs types e (w.0 text e is), parts_opener us vs types ps w.1)

-- where types stay, but for their pools and operations, records stay open
pub record_later : (around : List ℕ) (types more : List TypeForm) (t : ℕ) → ((form : TypeForm) → slice_get (forms types) t ≡ Some form → slice_get (forms more) t ≡ Some form) → RecordOpen around types t → RecordOpen around more t
record_later around types more t g w =
    let form = record_of w.0 w.1 w.2 (bare_final w.3) in
    let there = record_there more t w.0 w.1 w.2 (bare_final w.3) (g form (get_form types t (record_of w.0 w.1 w.2 w.3) w.4)) in
    (w.0, w.1, w.2, there.0, there.1, w.5)

-- the collections that declarations create are those that are collected
pub collected_is : (es : List DeclarationForm) (a : ℕ) → is_one_of (collected es) a ≡ is_collected a es
collected_is [] a = refl
collected_is (creates_pool p ∷ es) a = collected_is es a
collected_is (collects t ∷ es) a = ap (λ b. eqb t a || b) (collected_is es a)
collected_is (declares x source ∷ es) a = collected_is es a
collected_is (declares_record x object initial ∷ es) a = collected_is es a

-- a test that each element passes, and that each passes
pub all_of : (p : ℕ → Bool) (us : List ℕ) → ((a : ℕ) → is_one_of us a ≡ true → p a ≡ true) → list_all p us ≡ true
all_of p [] w = refl
all_of p (u ∷ us) w =
    both_parts (p u) (list_all p us) (w u (let own : eqb u u ≡ true = eq-eqb u u refl in rw own refl)) (all_of p us (λ a e. w a (one_of_second (u ∷ []) us a e)))

pub of_all : (p : ℕ → Bool) (us : List ℕ) → list_all p us ≡ true → (a : ℕ) → is_one_of us a ≡ true → p a ≡ true
of_all p [] e a is = absurd (cc is)
of_all p (u ∷ us) e a is = by_test (eqb u a) refl (of_all p us (second_part (p u) (list_all p us) e) a) is
  where
    by_test : (b : Bool) → eqb u a ≡ b → (is_one_of us a ≡ true → p a ≡ true) → (b || is_one_of us a) ≡ true → p a ≡ true
    by_test true same rest is = subst (λ (v : ℕ). p v ≡ true) (eqb-true u a same) (first_part (p u) (list_all p us) e)
    by_test false other rest is = rest is
