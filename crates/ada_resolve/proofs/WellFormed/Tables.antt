-- What stays of types and objects as more of them are declared.

use Rattle.std.proofs.Common.{◌≡◌, ◌∙◌, ℕ, ◌<◌, ◌≤◌, Bool, true, false, ◌&&◌, ◌||◌, List, [], ◌∷◌, ◌++◌, length, refl, zero, suc, sym, ap, subst, eqb, eq-eqb, arith}
use Rattle.std.specs.Prelude.{Option, Some, None, is_some, not}
use Rattle.std.specs.List.{list_all, slice_get, slice_set}
use Rattle.ada_program.specs.declared.program.ComponentKind.{ComponentKind}
use Rattle.ada_program.specs.declared.program.ComponentKind.TheVariants as kind
use Rattle.ada_program.specs.declared.program.Finalization.{Finalization}
use Rattle.ada_program.specs.declared.program.VariableKind.{VariableKind}
use Rattle.ada_program.specs.declared.program.VariableKind.TheVariants as variable
use Rattle.ada_program.specs.ProgramForm.{PartForm, TypeForm, record_of, access_to, object_of, VariableForm}
use Rattle.ada_program.specs.WellFormed as fits
use Rattle.ada_resolve.specs.Types.{is_designated}
use Rattle.ada_resolve.proofs.WellFormed.Forms.{AreIn, bare, forms, same_at}

-- both parts of a test
pub first_part : (a b : Bool) → (a && b) ≡ true → a ≡ true
first_part true b e = refl
first_part false b e = absurd (cc e)

pub second_part : (a b : Bool) → (a && b) ≡ true → b ≡ true
second_part true b e = e
second_part false b e = absurd (cc e)

pub both_parts : (a b : Bool) → a ≡ true → b ≡ true → (a && b) ≡ true
both_parts true b e f = f
both_parts false b e f = absurd (cc e)

module _ {X : Type 0} where
  pub all_weaker : (p q : X → Bool) → ((x : X) → p x ≡ true → q x ≡ true) → (xs : List X) → list_all p xs ≡ true → list_all q xs ≡ true
  all_weaker p q w [] e = refl
  all_weaker p q w (x ∷ xs) e = both_parts (q x) (list_all q xs) (w x (first_part (p x) (list_all p xs) e)) (all_weaker p q w xs (second_part (p x) (list_all p xs) e))

  pub all_more : (p : X → Bool) (xs ys : List X) → list_all p xs ≡ true → list_all p ys ≡ true → list_all p (xs ++ ys) ≡ true
  all_more p [] ys e f = f
  all_more p (x ∷ xs) ys e f = both_parts (p x) (list_all p (xs ++ ys)) (first_part (p x) (list_all p xs) e) (all_more p xs ys (second_part (p x) (list_all p xs) e) f)

  -- both parts of a list
  pub all_front : (p : X → Bool) (xs ys : List X) → list_all p (xs ++ ys) ≡ true → list_all p xs ≡ true
  all_front p [] ys e = refl
  all_front p (x ∷ xs) ys e = both_parts (p x) (list_all p xs) (first_part (p x) (list_all p (xs ++ ys)) e) (all_front p xs ys (second_part (p x) (list_all p (xs ++ ys)) e))

  pub all_back : (p : X → Bool) (xs ys : List X) → list_all p (xs ++ ys) ≡ true → list_all p ys ≡ true
  all_back p [] ys e = e
  all_back p (x ∷ xs) ys e = all_back p xs ys (second_part (p x) (list_all p (xs ++ ys)) e)

  pub all_set : (p : X → Bool) (xs : List X) (i : ℕ) (y : X) → list_all p xs ≡ true → p y ≡ true → list_all p (slice_set xs i y) ≡ true
  all_set p [] i y e f = refl
  all_set p (x ∷ xs) zero y e f = both_parts (p y) (list_all p xs) f (second_part (p x) (list_all p xs) e)
  all_set p (x ∷ xs) (suc i) y e f = both_parts (p x) (list_all p (slice_set xs i y)) (first_part (p x) (list_all p xs) e) (all_set p xs i y (second_part (p x) (list_all p xs) e) f)

  pub get_more : (xs : List X) (y : X) (i : ℕ) (x : X) → slice_get xs i ≡ Some x → slice_get (xs ++ y ∷ []) i ≡ Some x
  get_more [] y i x e = absurd (cc e)
  get_more (z ∷ xs) y zero x e = e
  get_more (z ∷ xs) y (suc i) x e = get_more xs y i x e

  pub get_last : (xs : List X) (y : X) → slice_get (xs ++ y ∷ []) (length xs) ≡ Some y
  get_last [] y = refl
  get_last (x ∷ xs) y = get_last xs y

  pub get_set : (xs : List X) (i : ℕ) (x y : X) → slice_get xs i ≡ Some x → slice_get (slice_set xs i y) i ≡ Some y
  get_set [] i x y e = absurd (cc e)
  get_set (z ∷ xs) zero x y e = refl
  get_set (z ∷ xs) (suc i) x y e = get_set xs i x y e

  pub get_other : (xs : List X) (i j : ℕ) (y : X) → (i ≡ j → ⊥) → slice_get (slice_set xs i y) j ≡ slice_get xs j
  get_other [] i j y ne = refl
  get_other (z ∷ xs) zero zero y ne = absurd (ne refl)
  get_other (z ∷ xs) zero (suc j) y ne = refl
  get_other (z ∷ xs) (suc i) zero y ne = refl
  get_other (z ∷ xs) (suc i) (suc j) y ne = get_other xs i j y (λ e. ne (ap (λ k. suc k) e))

  -- each element of a longer list, and of one with another element
  pub each_more : (P : X → Type 0) (xs : List X) (y : X) → ((i : ℕ) (x : X) → slice_get xs i ≡ Some x → P x) → P y → (i : ℕ) (x : X) → slice_get (xs ++ y ∷ []) i ≡ Some x → P x
  each_more P [] y old new zero x e = let same : y ≡ x = cc e in subst P same new
  each_more P [] y old new (suc i) x e = absurd (cc e)
  each_more P (z ∷ xs) y old new zero x e = old 0 x e
  each_more P (z ∷ xs) y old new (suc i) x e = each_more P xs y (λ j. old (suc j)) new i x e

  pub each_set : (P : X → Type 0) (xs : List X) (i : ℕ) (y : X) → ((j : ℕ) (x : X) → slice_get xs j ≡ Some x → P x) → P y → (j : ℕ) (x : X) → slice_get (slice_set xs i y) j ≡ Some x → P x
  each_set P [] i y old new j x e = absurd (cc e)
  each_set P (z ∷ xs) zero y old new zero x e = let same : y ≡ x = cc e in subst P same new
  each_set P (z ∷ xs) zero y old new (suc j) x e = old (suc j) x e
  each_set P (z ∷ xs) (suc i) y old new zero x e = old 0 x e
  each_set P (z ∷ xs) (suc i) y old new (suc j) x e = each_set P xs i y (λ n. old (suc n)) new j x e

  -- each element of a list fits
  pub all_get : (p : X → Bool) (xs : List X) (i : ℕ) (x : X) → list_all p xs ≡ true → slice_get xs i ≡ Some x → p x ≡ true
  all_get p [] i x h e = absurd (cc e)
  all_get p (z ∷ xs) zero x h e = let same : z ≡ x = cc e in subst (λ y. p y ≡ true) same (first_part (p z) (list_all p xs) h)
  all_get p (z ∷ xs) (suc i) x h e = all_get p xs i x (second_part (p z) (list_all p xs) h) e

  -- where there is none
  pub none_past : (xs : List X) (i : ℕ) → slice_get xs i ≡ None → length xs ≤ i
  none_past [] i e = omega arith
  none_past (x ∷ xs) zero e = absurd (cc e)
  none_past (x ∷ xs) (suc i) e = let h = none_past xs i e in omega (arith, h)

  pub past_none : (xs : List X) (i : ℕ) → length xs ≤ i → slice_get xs i ≡ None
  past_none [] i le = refl
  past_none (x ∷ xs) zero le = let no : ⊥ = omega (arith, le) in absurd no
  past_none (x ∷ xs) (suc i) le = past_none xs i (omega (arith, le))

  pub get_within : (xs : List X) (i : ℕ) (x : X) → slice_get xs i ≡ Some x → i < length xs
  get_within [] i x e = absurd (cc e)
  get_within (z ∷ xs) zero x e = omega arith
  get_within (z ∷ xs) (suc i) x e = let h = get_within xs i x e in omega arith

-- the access types of these are among those
abbrev pub KeepsAccesses : List TypeForm → List TypeForm → Type 0
KeepsAccesses types more = (t : ℕ) → fits.is_access types t ≡ true → fits.is_access more t ≡ true

-- so are the types by which record objects are known
abbrev pub KeepsObjects : List TypeForm → List TypeForm → Type 0
KeepsObjects types more = (t : ℕ) → fits.is_object_type types t ≡ true → fits.is_object_type more t ≡ true

-- and both
abbrev pub Keeps : List TypeForm → List TypeForm → Type 0
Keeps types more = KeepsAccesses types more × KeepsObjects types more

-- what fits these types fits types that keep them
kind_kept : (types more : List TypeForm) → Keeps types more → (k : ComponentKind) → fits.kind_fits types k ≡ true → fits.kind_fits more k ≡ true
kind_kept types more w (kind.Integer initial) e = refl
kind_kept types more w (kind.Boolean initial) e = refl
kind_kept types more w (kind.Access t) e = w.0 t.0 e

pub object_kind_kept : (types more : List TypeForm) → Keeps types more → (k : VariableKind) → fits.variable_kind_fits types k ≡ true → fits.variable_kind_fits more k ≡ true
object_kind_kept types more w variable.Integer e = refl
object_kind_kept types more w variable.Boolean e = refl
object_kind_kept types more w (variable.Access t) e = w.0 t.0 e
object_kind_kept types more w (variable.Record t) e = w.1 t.0 e

pub variable_kept : (types more : List TypeForm) → Keeps types more → (v : VariableForm) → fits.variable_fits types v ≡ true → fits.variable_fits more v ≡ true
variable_kept types more w v e =
    let borrowed = not v.borrows || fits.is_access_kind v.kind in
    both_parts (fits.variable_kind_fits more v.kind) borrowed
    (object_kind_kept types more w v.kind (first_part (fits.variable_kind_fits types v.kind) borrowed e))
    (second_part (fits.variable_kind_fits types v.kind) borrowed e)

pub components_kept : (types more : List TypeForm) → Keeps types more → (cs : List ComponentKind) → list_all (fits.kind_fits types) cs ≡ true → list_all (fits.kind_fits more) cs ≡ true
components_kept types more w cs e = all_weaker (fits.kind_fits types) (fits.kind_fits more) (kind_kept types more w) cs e

-- an access type is no record type
one_kind : (o : Option TypeForm) → is_some (fits.components_in o) ≡ true → is_some (fits.designated_in o) ≡ true → ⊥
one_kind None a b = (cc a)
one_kind (Some (record_of name ps cs final)) a b = (cc b)
one_kind (Some (access_to name d pool)) a b = (cc a)
one_kind (Some (object_of r)) a b = (cc a)

-- nor is a type by which a record object is known
no_object : (o : Option TypeForm) → is_some (fits.components_in o) ≡ true → is_some (fits.object_in o) ≡ true → ⊥
no_object None a b = (cc a)
no_object (Some (record_of name ps cs final)) a b = (cc b)
no_object (Some (access_to name d pool)) a b = (cc a)
no_object (Some (object_of r)) a b = (cc a)

-- objects of the type that an access type designates are what its values name
pub designated_named : (o : Option TypeForm) (d : ℕ) → fits.designated_in o ≡ Some d → fits.named_in o ≡ Some d
designated_named None d e = absurd (cc e)
designated_named (Some (record_of name ps cs final)) d e = absurd (cc e)
designated_named (Some (access_to name t pool)) d e = e
designated_named (Some (object_of r)) d e = absurd (cc e)

-- one more type
access_more : (types : List TypeForm) (form : TypeForm) → KeepsAccesses types (types ++ form ∷ [])
access_more [] form t e = absurd (cc e)
access_more (x ∷ types) form zero e = e
access_more (x ∷ types) form (suc t) e = access_more types form t e

object_more : (types : List TypeForm) (form : TypeForm) → KeepsObjects types (types ++ form ∷ [])
object_more [] form t e = absurd (cc e)
object_more (x ∷ types) form zero e = e
object_more (x ∷ types) form (suc t) e = object_more types form t e

pub keeps_more : (types : List TypeForm) (form : TypeForm) → Keeps types (types ++ form ∷ [])
keeps_more types form = (access_more types form, object_more types form)

pub record_more : (types : List TypeForm) (form : TypeForm) (t : ℕ) → fits.is_record types t ≡ true → fits.is_record (types ++ form ∷ []) t ≡ true
record_more [] form t e = absurd (cc e)
record_more (x ∷ types) form zero e = e
record_more (x ∷ types) form (suc t) e = record_more types form t e

-- another definition for a record type
access_set : (types : List TypeForm) (i : ℕ) (form : TypeForm) → fits.is_record types i ≡ true → KeepsAccesses types (slice_set types i form)
access_set [] i form r t e = absurd (cc r)
access_set (x ∷ types) zero form r zero e = absurd (one_kind (Some x) r e)
access_set (x ∷ types) zero form r (suc t) e = e
access_set (x ∷ types) (suc i) form r zero e = e
access_set (x ∷ types) (suc i) form r (suc t) e = access_set types i form r t e

object_set : (types : List TypeForm) (i : ℕ) (form : TypeForm) → fits.is_record types i ≡ true → KeepsObjects types (slice_set types i form)
object_set [] i form r t e = absurd (cc r)
object_set (x ∷ types) zero form r zero e = absurd (no_object (Some x) r e)
object_set (x ∷ types) zero form r (suc t) e = e
object_set (x ∷ types) (suc i) form r zero e = e
object_set (x ∷ types) (suc i) form r (suc t) e = object_set types i form r t e

pub keeps_set : (types : List TypeForm) (i : ℕ) (form : TypeForm) → fits.is_record types i ≡ true → Keeps types (slice_set types i form)
keeps_set types i form r = (access_set types i form r, object_set types i form r)

pub record_set : (types : List TypeForm) (i : ℕ) (name : List ℕ) (ps : List PartForm) (cs : List ComponentKind) (final : Option Finalization) (t : ℕ) → fits.is_record types t ≡ true → fits.is_record (slice_set types i (record_of name ps cs final)) t ≡ true
record_set [] i name ps cs final t e = absurd (cc e)
record_set (x ∷ types) zero name ps cs final zero e = refl
record_set (x ∷ types) zero name ps cs final (suc t) e = e
record_set (x ∷ types) (suc i) name ps cs final zero e = e
record_set (x ∷ types) (suc i) name ps cs final (suc t) e = record_set types i name ps cs final t e

pub record_other : (types : List TypeForm) (i : ℕ) (form : TypeForm) (t : ℕ) → (i ≡ t → ⊥) → fits.is_record types t ≡ true → fits.is_record (slice_set types i form) t ≡ true
record_other [] i form t ne e = absurd (cc e)
record_other (x ∷ types) zero form zero ne e = absurd (ne refl)
record_other (x ∷ types) zero form (suc t) ne e = e
record_other (x ∷ types) (suc i) form zero ne e = e
record_other (x ∷ types) (suc i) form (suc t) ne e = record_other types i form t (λ h. ne (ap (λ k. suc k) h)) e

-- what of a type fits, but for its controlled parts
abbrev pub is_plain : List TypeForm → TypeForm → Bool
is_plain types (record_of name ps cs final) = list_all (fits.kind_fits types) cs
is_plain types (access_to name d pool) = fits.is_record types d
is_plain types (object_of t) = fits.is_record types t

-- its controlled parts
abbrev pub is_counted : List TypeForm → TypeForm → Bool
is_counted types (record_of name ps cs final) = fits.parent_first ps && fits.says_parts types final ps && fits.is_numbered_alone types final
is_counted types (access_to name d pool) = true
is_counted types (object_of t) = true

-- both together
pub type_both : (types : List TypeForm) (x : TypeForm) → is_plain types x ≡ true → is_counted types x ≡ true → fits.type_fits types x ≡ true
type_both types (record_of name ps cs final) e f =
    let kinds = list_all (fits.kind_fits types) cs in
    let first = fits.parent_first ps in
    let says : Bool = fits.says_parts types final ps in
    let alone : Bool = fits.is_numbered_alone types final in
    let own = first_part (first && says) alone f in
    both_parts (kinds && first && says) alone
    (both_parts (kinds && first) says (both_parts kinds first e (first_part first says own)) (second_part first says own)) (second_part (first && says) alone f)
type_both types (access_to name d pool) e f = e
type_both types (object_of t) e f = e

pub plain_of : (types : List TypeForm) (x : TypeForm) → fits.type_fits types x ≡ true → is_plain types x ≡ true
plain_of types (record_of name ps cs final) e =
    let kinds = list_all (fits.kind_fits types) cs in
    let first = fits.parent_first ps in
    let says : Bool = fits.says_parts types final ps in
    let alone : Bool = fits.is_numbered_alone types final in
    first_part kinds first (first_part (kinds && first) says (first_part (kinds && first && says) alone e))
plain_of types (access_to name d pool) e = e
plain_of types (object_of t) e = e

pub counted_of : (types : List TypeForm) (x : TypeForm) → fits.type_fits types x ≡ true → is_counted types x ≡ true
counted_of types (record_of name ps cs final) e =
    let kinds = list_all (fits.kind_fits types) cs in
    let first = fits.parent_first ps in
    let says : Bool = fits.says_parts types final ps in
    let alone : Bool = fits.is_numbered_alone types final in
    let front = first_part (kinds && first && says) alone e in
    both_parts (first && says) alone
    (both_parts first says (second_part kinds first (first_part (kinds && first) says front)) (second_part (kinds && first) says front))
    (second_part (kinds && first && says) alone e)
counted_of types (access_to name d pool) e = refl
counted_of types (object_of t) e = refl

-- what is counted of a record type, apart
module _ (types : List TypeForm) (name : List ℕ) (ps : List PartForm) (cs : List ComponentKind) (final : Option Finalization) (e : is_counted types (record_of name ps cs final) ≡ true) where
  pub counted_first : fits.parent_first ps ≡ true
  counted_first =
      first_part (fits.parent_first ps) (fits.says_parts types final ps)
      (first_part (fits.parent_first ps && fits.says_parts types final ps) (fits.is_numbered_alone types final) e)

  pub counted_says : fits.says_parts types final ps ≡ true
  counted_says =
      second_part (fits.parent_first ps) (fits.says_parts types final ps)
      (first_part (fits.parent_first ps && fits.says_parts types final ps) (fits.is_numbered_alone types final) e)

  pub counted_alone : fits.is_numbered_alone types final ≡ true
  counted_alone = second_part (fits.parent_first ps && fits.says_parts types final ps) (fits.is_numbered_alone types final) e

-- types that keep both kinds keep what is plain
plain_kept : (types more : List TypeForm) → Keeps types more → ((t : ℕ) → fits.is_record types t ≡ true → fits.is_record more t ≡ true) → (x : TypeForm) → is_plain types x ≡ true → is_plain more x ≡ true
plain_kept types more a r (record_of name ps cs final) e = components_kept types more a cs e
plain_kept types more a r (access_to name d pool) e = r d e
plain_kept types more a r (object_of t) e = r t e

pub plains_kept : (types more : List TypeForm) → Keeps types more → ((t : ℕ) → fits.is_record types t ≡ true → fits.is_record more t ≡ true) → (xs : List TypeForm) → list_all (is_plain types) xs ≡ true → list_all (is_plain more) xs ≡ true
plains_kept types more a r xs e = all_weaker (is_plain types) (is_plain more) (plain_kept types more a r) xs e

-- neither of two tests holds
pub left_fails : (a b : Bool) → (a || b) ≡ false → a ≡ false
left_fails true b e = e
left_fails false b e = refl

pub right_fails : (a b : Bool) → (a || b) ≡ false → b ≡ false
right_fails true b e = absurd (cc e)
right_fails false b e = e

-- none of these is a type by which an object of the record type of this number is known
abbrev pub OfNoObject : ℕ → List TypeForm → Type 0
OfNoObject t types = (u r : ℕ) → slice_get types u ≡ Some (object_of r) → r ≡ t → ⊥

-- a record type that no type designates, and of which there is no object, becomes another
pub plains_without : (types more : List TypeForm) (i : ℕ) → Keeps types more → ((t : ℕ) → (i ≡ t → ⊥) → fits.is_record types t ≡ true → fits.is_record more t ≡ true) → (xs : List TypeForm) → is_designated i xs ≡ false → OfNoObject i xs → list_all (is_plain types) xs ≡ true → list_all (is_plain more) xs ≡ true
plains_without types more i a r [] d o e = refl
plains_without types more i a r (record_of name ps cs final ∷ xs) d o e =
    both_parts (list_all (fits.kind_fits more) cs) (list_all (is_plain more) xs)
    (components_kept types more a cs (first_part (list_all (fits.kind_fits types) cs) (list_all (is_plain types) xs) e))
    (plains_without types more i a r xs d (λ u t is. o (suc u) t is) (second_part (list_all (fits.kind_fits types) cs) (list_all (is_plain types) xs) e))
plains_without types more i a r (access_to name t pool ∷ xs) d o e =
    both_parts (fits.is_record more t) (list_all (is_plain more) xs)
    (r t (λ same. let no : eqb t i ≡ false = left_fails (eqb t i) (is_designated i xs) d in let on : eqb t i ≡ true = eq-eqb t i (sym same) in absurd (cc (no, on)))
    (first_part (fits.is_record types t) (list_all (is_plain types) xs) e))
    (plains_without types more i a r xs (right_fails (eqb t i) (is_designated i xs) d) (λ u v is. o (suc u) v is) (second_part (fits.is_record types t) (list_all (is_plain types) xs) e))
plains_without types more i a r (object_of t ∷ xs) d o e =
    both_parts (fits.is_record more t) (list_all (is_plain more) xs)
    (r t (λ same. o 0 t refl (sym same)) (first_part (fits.is_record types t) (list_all (is_plain types) xs) e))
    (plains_without types more i a r xs d (λ u v is. o (suc u) v is) (second_part (fits.is_record types t) (list_all (is_plain types) xs) e))

-- types that are there stay what they are, but for their pools
access_bare : (x : TypeForm) → is_some (fits.designated_in (Some (bare x))) ≡ is_some (fits.designated_in (Some x))
access_bare (record_of name ps cs final) = refl
access_bare (access_to name d pool) = refl
access_bare (object_of r) = refl

object_bare : (x : TypeForm) → is_some (fits.object_in (Some (bare x))) ≡ is_some (fits.object_in (Some x))
object_bare (record_of name ps cs final) = refl
object_bare (access_to name d pool) = refl
object_bare (object_of r) = refl

record_bare : (x : TypeForm) → is_some (fits.components_in (Some (bare x))) ≡ is_some (fits.components_in (Some x))
record_bare (record_of name ps cs final) = refl
record_bare (access_to name d pool) = refl
record_bare (object_of r) = refl

module _ (types more : List TypeForm) (g : AreIn (forms types) (forms more)) where
  pub access_same : (t : ℕ) (x : TypeForm) → slice_get types t ≡ Some x → fits.is_access more t ≡ fits.is_access types t
  access_same t x is = same_at types more g (λ o. is_some (fits.designated_in o)) access_bare t x is ∙ ap (λ o. is_some (fits.designated_in o)) (sym is)

  access_grows : (t : ℕ) → fits.is_access types t ≡ true → fits.is_access more t ≡ true
  access_grows t e = by_form (slice_get types t) refl e
    where
      by_form : (o : Option TypeForm) → slice_get types t ≡ o → is_some (fits.designated_in o) ≡ true → fits.is_access more t ≡ true
      by_form None is e = absurd (cc e)
      by_form (Some form) is e = same_at types more g (λ o. is_some (fits.designated_in o)) access_bare t form is ∙ e

  object_grows : (t : ℕ) → fits.is_object_type types t ≡ true → fits.is_object_type more t ≡ true
  object_grows t e = by_form (slice_get types t) refl e
    where
      by_form : (o : Option TypeForm) → slice_get types t ≡ o → is_some (fits.object_in o) ≡ true → fits.is_object_type more t ≡ true
      by_form None is e = absurd (cc e)
      by_form (Some form) is e = same_at types more g (λ o. is_some (fits.object_in o)) object_bare t form is ∙ e

  pub record_grows : (t : ℕ) → fits.is_record types t ≡ true → fits.is_record more t ≡ true
  record_grows t e = by_form (slice_get types t) refl e
    where
      by_form : (o : Option TypeForm) → slice_get types t ≡ o → is_some (fits.components_in o) ≡ true → fits.is_record more t ≡ true
      by_form None is e = absurd (cc e)
      by_form (Some form) is e = same_at types more g (λ o. is_some (fits.components_in o)) record_bare t form is ∙ e

  pub types_keep : Keeps types more
  types_keep = (access_grows, object_grows)
