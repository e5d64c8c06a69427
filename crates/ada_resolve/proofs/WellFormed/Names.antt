-- What names stand for is there.

use Rattle.std.proofs.Common.{◌≡◌, ℕ, Bool, true, false, List, [], ◌∷◌, refl, sym, ◌∙◌, cond, subst}
use Rattle.std.specs.Prelude.{Option, Some, None, bytes_eq, codes}
use Rattle.std.specs.List.{list_all, slice_get}
use Rattle.std.proofs.lemmas.Bool.{false_from_ne_true}
use Rattle.std.proofs.lemmas.Slice.Eq.{bytes_eq-Decides}
use Rattle.ada_text.specs.declared.spot.Spot.{Spot}
use Rattle.ada_program.specs.declared.program.Finalization.{Finalization}
use Rattle.ada_program.specs.ProgramForm.{PartForm, TypeForm, record_of, access_to, VariableForm}
use Rattle.ada_program.specs.WellFormed as fits
use Rattle.ada_program.specs.declared.program.ComponentKind.{ComponentKind}
use Rattle.ada_program.specs.declared.program.Exception.TheVariants.{ConstraintError, ProgramError, StorageError}
use Rattle.ada_program.specs.declared.program.VariableKind.{VariableKind}
use Rattle.ada_resolve.specs.declared.library.Withs.{Withs}
use Rattle.ada_resolve.specs.declared.scope.Entity.{Entity}
use Rattle.ada_resolve.specs.declared.scope.Entity.TheVariants as entity
use Rattle.ada_resolve.specs.Naming.{truth_name}
use Rattle.ada_resolve.specs.declared.scope.Role.{Role}
use Rattle.ada_resolve.specs.declared.scope.Role.TheVariants as role
use Rattle.ada_resolve.specs.Known.{Known, Named, Part, named, entered, first_named, role_of, from_within, from_part, named_in, inner_first, outermost, is_unit_named, unit_named, visible, parts}
use Rattle.ada_resolve.specs.Library.{predefined}
use Rattle.ada_resolve.proofs.WellFormed.Laid.{AreRecordsLaid}

-- a variable of this name is there, which holds this, a borrower or not
abbrev pub IsVariableIn : List VariableForm → List ℕ → VariableKind → ℕ → Type 0
IsVariableIn variables text kind x = (spot : Spot) × (borrows : Bool) × (slice_get variables x ≡ Some (record { name = text; spot = spot; kind = kind; borrows = borrows }))

-- what a name stands for is there, and has the name
abbrev pub EntityFits : List TypeForm → List VariableForm → List ℕ → Entity → Type 0
EntityFits types variables text entity.Integer = Unit {0}
EntityFits types variables text entity.Boolean = Unit {0}
EntityFits types variables text (entity.Truth b) = text ≡ truth_name b
EntityFits types variables text (entity.Number n) = Unit {0}
EntityFits types variables text (entity.Exception e) = Unit {0}
EntityFits types variables text (entity.Pool p) = Unit {0}
EntityFits types variables text entity.Procedure = Unit {0}
EntityFits types variables text (entity.Callable p) = Unit {0}
EntityFits types variables text entity.LibraryUnit = Unit {0}
EntityFits types variables text (entity.Incomplete t) = slice_get types t.0 ≡ Some (record_of text [] [] None)
EntityFits types variables text (entity.Record t size) = (ps : List PartForm) × (cs : List ComponentKind) × (final : Option Finalization) × (slice_get types t.0 ≡ Some (record_of text ps cs final))
EntityFits types variables text (entity.Access t) = (d : ℕ) × (pool : Option ℕ) × (slice_get types t.0 ≡ Some (access_to text d pool))
EntityFits types variables text (entity.Instance t) = fits.is_access types t.0 ≡ true
EntityFits types variables text (entity.Variable x kind) = IsVariableIn variables text kind x.0 × (fits.variable_kind_fits types kind ≡ true)
EntityFits types variables text (entity.Parameter x kind) =
    ((spot : Spot) × (slice_get variables x.0 ≡ Some (record { name = text; spot = spot; kind = kind; borrows = false }))) × (fits.variable_kind_fits types kind ≡ true)
EntityFits types variables text (entity.Outer kind role) = Unit {0}

abbrev pub NamesFit : List TypeForm → List VariableForm → List Named → Type 0
NamesFit types variables names = (text : List ℕ) (e : Entity) → named text names ≡ Some e → EntityFits types variables text e

-- the components of all types lie one behind the other, and each type fits
abbrev pub TypesFit : List TypeForm → Type 0
TypesFit types = AreRecordsLaid types × (list_all (fits.type_fits types) types ≡ true)

-- the variables of the parts around a part: those of the body around, where the part is that of a body
abbrev pub variables_behind : Option (List VariableForm) → List VariableForm → List VariableForm
variables_behind (Some variables) own = variables
variables_behind None own = own

-- what the names of each part stand for is there, and all types fit
abbrev pub PartsFit : List TypeForm → List VariableForm → List Part → Type 0
PartsFit types variables [] = TypesFit types
PartsFit types variables (part ∷ outer) = NamesFit types variables part.names × PartsFit types (variables_behind part.around variables) outer

pub types_in : (types : List TypeForm) (variables : List VariableForm) (ps : List Part) → PartsFit types variables ps → TypesFit types
types_in types variables [] w = w
types_in types variables (part ∷ outer) w = types_in types (variables_behind part.around variables) outer w.1

pub laid_in : (types : List TypeForm) (variables : List VariableForm) (ps : List Part) → PartsFit types variables ps → AreRecordsLaid types
laid_in types variables ps w = (types_in types variables ps w).0

-- two texts are the same, or are not
pub text_same : (a b : List ℕ) → bytes_eq a b ≡ true → a ≡ b
text_same a b = (bytes_eq-Decides a b).0

pub same_text : (a b : List ℕ) → a ≡ b → bytes_eq a b ≡ true
same_text a b = (bytes_eq-Decides a b).1

pub no_text : (a b : List ℕ) → bytes_eq a b ≡ false → a ≡ b → ⊥
no_text a b e same = let on : bytes_eq a b ≡ true = same_text a b same in (cc (e, on))

pub other_text : (a b : List ℕ) → (a ≡ b → ⊥) → bytes_eq a b ≡ false
other_text a b ne = false_from_ne_true (bytes_eq a b) (λ e. ne (text_same a b e))

-- after a name is entered, it stands for that
entered_first : (n : Named) (ns : List Named) (text t : List ℕ) (e : Entity) (b c d : Bool) → bytes_eq text n.text ≡ b → bytes_eq t n.text ≡ c → bytes_eq t text ≡ d → named t (entered text e ns) ≡ cond d (Some e) (named t ns) → named t (cond b (record { text = n.text; entity = e } ∷ ns) (n ∷ entered text e ns)) ≡ cond d (Some e) (cond c (Some n.entity) (named t ns))
entered_first n ns text t e true c true p q r h =
    let on : bytes_eq t n.text ≡ true = same_text t n.text (text_same t text r ∙ text_same text n.text p) in rw on
entered_first n ns text t e true c false p q r h =
    let off : bytes_eq t n.text ≡ false = other_text t n.text (λ same. no_text t text r (same ∙ sym (text_same text n.text p))) in
    let c_off : c ≡ false = sym q ∙ off in rw (off, c_off)
entered_first n ns text t e false c true p q r h =
    let off : bytes_eq t n.text ≡ false = other_text t n.text (λ same. no_text text n.text p (sym (text_same t text r) ∙ same)) in rw off h
entered_first n ns text t e false c false p q r h = rw (q, h)

pub named_entered : (ns : List Named) (text t : List ℕ) (e : Entity) → named t (entered text e ns) ≡ cond (bytes_eq t text) (Some e) (named t ns)
named_entered [] text t e = refl
named_entered (n ∷ ns) text t e = entered_first n ns text t e (bytes_eq text n.text) (bytes_eq t n.text) (bytes_eq t text) refl refl refl (named_entered ns text t e)

-- what is entered is so, and what was there, where it has another name
pub all_entered : (P : List ℕ → Entity → Type 0) (ns : List Named) (text : List ℕ) (e : Entity) → P text e → ((t : List ℕ) (x : Entity) → (t ≡ text → ⊥) → named t ns ≡ Some x → P t x) → (t : List ℕ) (x : Entity) → named t (entered text e ns) ≡ Some x → P t x
all_entered P ns text e own old t x h = entered_so (bytes_eq t text) refl (sym (named_entered ns text t e) ∙ h)
  where
    entered_so : (b : Bool) → bytes_eq t text ≡ b → cond b (Some e) (named t ns) ≡ Some x → P t x
    entered_so true on is = let same_entity : e ≡ x = cc is in rw (text_same t text on, sym same_entity) own
    entered_so false off is = old t x (no_text t text off) is

-- what is entered fits, and what was there, where it has another name
pub names_entered : (types : List TypeForm) (variables : List VariableForm) (ns : List Named) (text : List ℕ) (e : Entity) → EntityFits types variables text e → ((t : List ℕ) (x : Entity) → (t ≡ text → ⊥) → named t ns ≡ Some x → EntityFits types variables t x) → NamesFit types variables (entered text e ns)
names_entered types variables ns text e own old = all_entered (EntityFits types variables) ns text e own old

-- what is predefined has no number
standard_fits : (types : List TypeForm) (variables : List VariableForm) (text : List ℕ) (x : Entity) (a b c d f g h : Bool) → (c ≡ true → text ≡ codes "TRUE") → (d ≡ true → text ≡ codes "FALSE") → cond a (Some entity.Integer) (cond b (Some entity.Boolean) (cond c (Some (entity.Truth true)) (cond d (Some (entity.Truth false)) (cond f (Some (entity.Exception ConstraintError)) (cond g (Some (entity.Exception ProgramError)) (cond h (Some (entity.Exception StorageError)) None)))))) ≡ Some x → EntityFits types variables text x
standard_fits types variables text x true b c d f g h on off e = let is : entity.Integer ≡ x = cc e in rw (sym is) tt
standard_fits types variables text x false true c d f g h on off e = let is : entity.Boolean ≡ x = cc e in rw (sym is) tt
standard_fits types variables text x false false true d f g h on off e = let is : entity.Truth true ≡ x = cc e in rw (sym is) (on refl)
standard_fits types variables text x false false false true f g h on off e = let is : entity.Truth false ≡ x = cc e in rw (sym is) (off refl)
standard_fits types variables text x false false false false true g h on off e = let is : entity.Exception ConstraintError ≡ x = cc e in rw (sym is) tt
standard_fits types variables text x false false false false false true h on off e = let is : entity.Exception ProgramError ≡ x = cc e in rw (sym is) tt
standard_fits types variables text x false false false false false false true on off e = let is : entity.Exception StorageError ≡ x = cc e in rw (sym is) tt
standard_fits types variables text x false false false false false false false on off e = absurd (cc e)

pub predefined_fits : (types : List TypeForm) (variables : List VariableForm) (text : List ℕ) (x : Entity) → predefined text ≡ Some x → EntityFits types variables text x
unfolding predefined
predefined_fits types variables text x e =
    standard_fits types variables text x (bytes_eq text (codes "INTEGER")) (bytes_eq text (codes "BOOLEAN")) (bytes_eq text (codes "TRUE")) (bytes_eq text (codes "FALSE"))
    (bytes_eq text (codes "CONSTRAINT_ERROR")) (bytes_eq text (codes "PROGRAM_ERROR")) (bytes_eq text (codes "STORAGE_ERROR"))
    (text_same text (codes "TRUE")) (text_same text (codes "FALSE")) e

-- a variable of that name holds what it is declared to hold
pub kind_there : (variables : List VariableForm) (x : ℕ) (text : List ℕ) (kind : VariableKind) → IsVariableIn variables text kind x → fits.variable_kind variables x ≡ Some kind
kind_there variables x text kind f = rw f.2 refl

-- what the first of two stands for is what one of them does
pub first_of_two : (P : Entity → Type 0) (own outer : Option Entity) (x : Entity) → ((y : Entity) → own ≡ Some y → P y) → ((y : Entity) → outer ≡ Some y → P y) → first_named own outer ≡ Some x → P x
first_of_two P (Some y) outer x w v e = w x e
first_of_two P None outer x w v e = v x e

-- a library unit has no number
pub unit_only : (P : Entity → Type 0) (withs : Withs) (text : List ℕ) (x : Entity) → P entity.LibraryUnit → unit_named withs text ≡ Some x → P x
unit_only P withs text x own e = by_name (is_unit_named withs text) e
  where
    by_name : (b : Bool) → cond b (Some entity.LibraryUnit) None ≡ Some x → P x
    by_name true e = let is : entity.LibraryUnit ≡ x = cc e in subst P is own
    by_name false e = absurd (cc e)

pub outermost_fits : (types : List TypeForm) (variables : List VariableForm) (withs : Withs) (text : List ℕ) (x : Entity) → outermost withs text ≡ Some x → EntityFits types variables text x
outermost_fits types variables withs text x e =
    first_of_two (EntityFits types variables text) (predefined text) (unit_named withs text) x (predefined_fits types variables text)
    (λ y. unit_only (EntityFits types variables text) withs text y tt) e

inner_fits : (types : List TypeForm) (variables : List VariableForm) (withs : Withs) (text : List ℕ) (x : Entity) (own : Option Entity) (b : Bool) → ((y : Entity) → own ≡ Some y → EntityFits types variables text y) → inner_first own b (outermost withs text) ≡ Some x → EntityFits types variables text x
inner_fits types variables withs text x (Some y) b w e = let is : y ≡ x = cc e in rw (sym is) (w y refl)
inner_fits types variables withs text x None true w e = let is : entity.Procedure ≡ x = cc e in rw (sym is) tt
inner_fits types variables withs text x None false w e = outermost_fits types variables withs text x e

-- what a name of a body around stands for: an object of it is out of reach, and all else stays
pub entity_within : (P : Entity → Type 0) (variables : List VariableForm) (y x : Entity) → ((kind : VariableKind) (r : Role) → P (entity.Outer kind r)) → P y → from_within variables (Some y) ≡ Some x → P x
entity_within P variables (entity.Variable v kind) x o w e =
    let is : entity.Outer kind (role_of (fits.is_borrower variables v.0)) ≡ x = cc e in subst P is (o kind (role_of (fits.is_borrower variables v.0)))
entity_within P variables (entity.Parameter v kind) x o w e = let is : entity.Outer kind role.Constant ≡ x = cc e in subst P is (o kind role.Constant)
entity_within P variables y x o w e = let is : y ≡ x = cc e in subst P is w

pub within_of : (P : Entity → Type 0) (around : Option (List VariableForm)) (outer : Option Entity) (x : Entity) → ((kind : VariableKind) (r : Role) → P (entity.Outer kind r)) → ((y : Entity) → outer ≡ Some y → P y) → from_part around outer ≡ Some x → P x
within_of P None outer x o w e = w x e
within_of P (Some variables) None x o w e = absurd (cc e)
within_of P (Some variables) (Some y) x o w e = entity_within P variables y x o (w y refl) e

-- what is there in a body around is there from within, too
outer_fits : (types : List TypeForm) (variables others : List VariableForm) (text : List ℕ) (y x : Entity) → EntityFits types others text y → from_within others (Some y) ≡ Some x → EntityFits types variables text x
outer_fits types variables others text (entity.Variable v kind) x f e =
    let is : entity.Outer kind (role_of (fits.is_borrower others v.0)) ≡ x = cc e in subst (EntityFits types variables text) is tt
outer_fits types variables others text (entity.Parameter v kind) x f e = let is : entity.Outer kind role.Constant ≡ x = cc e in subst (EntityFits types variables text) is tt
outer_fits types variables others text (entity.Truth b) x f e = let is : entity.Truth b ≡ x = cc e in subst (EntityFits types variables text) is f
outer_fits types variables others text (entity.Incomplete t) x f e = let is : entity.Incomplete t ≡ x = cc e in subst (EntityFits types variables text) is f
outer_fits types variables others text (entity.Record t size) x f e = let is : entity.Record t size ≡ x = cc e in subst (EntityFits types variables text) is f
outer_fits types variables others text (entity.Access t) x f e = let is : entity.Access t ≡ x = cc e in subst (EntityFits types variables text) is f
outer_fits types variables others text (entity.Instance t) x f e = let is : entity.Instance t ≡ x = cc e in subst (EntityFits types variables text) is f
outer_fits types variables others text (entity.Number n) x f e = let is : entity.Number n ≡ x = cc e in subst (EntityFits types variables text) is tt
outer_fits types variables others text (entity.Exception n) x f e = let is : entity.Exception n ≡ x = cc e in subst (EntityFits types variables text) is tt
outer_fits types variables others text (entity.Pool n) x f e = let is : entity.Pool n ≡ x = cc e in subst (EntityFits types variables text) is tt
outer_fits types variables others text (entity.Callable n) x f e = let is : entity.Callable n ≡ x = cc e in subst (EntityFits types variables text) is tt
outer_fits types variables others text (entity.Outer kind r) x f e = let is : entity.Outer kind r ≡ x = cc e in subst (EntityFits types variables text) is tt
outer_fits types variables others text entity.Integer x f e = let is : entity.Integer ≡ x = cc e in subst (EntityFits types variables text) is tt
outer_fits types variables others text entity.Boolean x f e = let is : entity.Boolean ≡ x = cc e in subst (EntityFits types variables text) is tt
outer_fits types variables others text entity.Procedure x f e = let is : entity.Procedure ≡ x = cc e in subst (EntityFits types variables text) is tt
outer_fits types variables others text entity.LibraryUnit x f e = let is : entity.LibraryUnit ≡ x = cc e in subst (EntityFits types variables text) is tt

around_fits : (types : List TypeForm) (variables : List VariableForm) (around : Option (List VariableForm)) (text : List ℕ) (outer : Option Entity) (x : Entity) → ((y : Entity) → outer ≡ Some y → EntityFits types (variables_behind around variables) text y) → from_part around outer ≡ Some x → EntityFits types variables text x
around_fits types variables None text outer x w e = w x e
around_fits types variables (Some others) text None x w e = absurd (cc e)
around_fits types variables (Some others) text (Some y) x w e = outer_fits types variables others text y x (w y refl) e

pub parts_fit : (types : List TypeForm) (variables : List VariableForm) (ps : List Part) → PartsFit types variables ps → (text : List ℕ) (x : Entity) → named_in text ps ≡ Some x → EntityFits types variables text x
parts_fit types variables [] w text x e = absurd (cc e)
parts_fit types variables (p ∷ ps) w text x e =
    first_of_two (EntityFits types variables text) (named text p.names) (from_part p.around (named_in text ps)) x (w.0 text)
    (λ y is. around_fits types variables p.around text (named_in text ps) y (parts_fit types (variables_behind p.around variables) ps w.1 text) is) e

-- what is visible fits
pub visible_fits : (k : Known) → PartsFit k.types k.variables (parts k) → (text : List ℕ) (x : Entity) → visible k text ≡ Some x → EntityFits k.types k.variables text x
unfolding visible
visible_fits k w text x e = inner_fits k.types k.variables k.withs text x (named_in text (parts k)) (bytes_eq text k.procedure) (parts_fit k.types k.variables (parts k) w text) e
