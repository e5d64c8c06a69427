-- What names stand for exceptions is predefined, or is there.

use Rattle.std.proofs.Common.{◌≡◌, ℕ, Bool, true, false, List, [], ◌∷◌, ◌++◌, length, refl, sym, cond}
use Rattle.std.specs.Prelude.{Option, Some, None, bytes_eq, codes}
use Rattle.std.specs.List.{list_all, slice_get}
use Rattle.std.proofs.lemmas.Bool.{lt-ltb}
use Rattle.ada_tree.specs.Declarations.{ChoiceTree, named_choice, others_choice}
use Rattle.ada_tree.specs.Names.{NameTree}
use Rattle.ada_program.specs.declared.program.Exception.{Exception}
use Rattle.ada_program.specs.declared.program.Exception.TheVariants as exception
use Rattle.ada_program.specs.WellFormed as fits
use Rattle.ada_resolve.specs.declared.library.LibraryName.{LibraryName}
use Rattle.ada_resolve.specs.declared.library.LibraryName.TheVariants.{EndError}
use Rattle.ada_resolve.specs.declared.library.Withs.{Withs}
use Rattle.ada_resolve.specs.declared.scope.Entity.{Entity}
use Rattle.ada_resolve.specs.declared.scope.Entity.TheVariants as entity
use Rattle.ada_resolve.specs.Exceptions.{exception_of_library, exception_in, exception_found, exception_or_others, choice_meant, choices_meant}
use Rattle.ada_resolve.specs.Known.{Known, Named, Part, named, entered, from_part, named_in, inner_first, outermost, unit_named, visible, library_found, is_empty, parts}
use Rattle.ada_resolve.specs.Library.{predefined, is_library_root}
use Rattle.ada_resolve.proofs.WellFormed.Names.{all_entered, first_of_two, within_of, text_same, unit_only}
use Rattle.ada_resolve.proofs.WellFormed.Tables.{get_more, get_last, get_within, both_parts}

-- an exception has the name: it is predefined, or one of those that are declared
abbrev pub ExceptionFits : List (List ℕ) → List ℕ → Exception → Type 0
ExceptionFits exceptions text exception.ConstraintError = text ≡ codes "CONSTRAINT_ERROR"
ExceptionFits exceptions text exception.ProgramError = text ≡ codes "PROGRAM_ERROR"
ExceptionFits exceptions text exception.StorageError = text ≡ codes "STORAGE_ERROR"
ExceptionFits exceptions text exception.EndError = ⊥
ExceptionFits exceptions text (exception.Declared n) = slice_get exceptions n.0 ≡ Some text

-- what a name stands for, where it is an exception, has the name
abbrev pub RaisedFits : List (List ℕ) → List ℕ → Entity → Type 0
RaisedFits exceptions text (entity.Exception e) = ExceptionFits exceptions text e
RaisedFits exceptions text e = Unit {0}

abbrev pub AllRaised : List (List ℕ) → List Named → Type 0
AllRaised exceptions names = (text : List ℕ) (e : Entity) → named text names ≡ Some e → RaisedFits exceptions text e

-- and so in each part
abbrev pub PartsRaised : List (List ℕ) → List Part → Type 0
PartsRaised exceptions [] = Unit {0}
PartsRaised exceptions (part ∷ outer) = AllRaised exceptions part.names × PartsRaised exceptions outer

-- one more name, and no exception
pub raised_entered : (exceptions : List (List ℕ)) (ns : List Named) (outer : List Part) (text : List ℕ) (e : Entity) → RaisedFits exceptions text e → AllRaised exceptions ns × PartsRaised exceptions outer → AllRaised exceptions (entered text e ns) × PartsRaised exceptions outer
raised_entered exceptions ns outer text e own old = (all_entered (RaisedFits exceptions) ns text e own (λ t x ne is. old.0 t x is), old.1)

-- one more exception
more_exceptions : (exceptions : List (List ℕ)) (name text : List ℕ) (e : Exception) → ExceptionFits exceptions text e → ExceptionFits (exceptions ++ name ∷ []) text e
more_exceptions exceptions name text exception.ConstraintError f = f
more_exceptions exceptions name text exception.ProgramError f = f
more_exceptions exceptions name text exception.StorageError f = f
more_exceptions exceptions name text exception.EndError f = f
more_exceptions exceptions name text (exception.Declared n) f = get_more exceptions name n.0 text f

more_raised : (exceptions : List (List ℕ)) (name text : List ℕ) (e : Entity) → RaisedFits exceptions text e → RaisedFits (exceptions ++ name ∷ []) text e
more_raised exceptions name text (entity.Exception e) f = more_exceptions exceptions name text e f
more_raised exceptions name text e f = tt

pub raised_outer : (exceptions : List (List ℕ)) (name : List ℕ) (ps : List Part) → PartsRaised exceptions ps → PartsRaised (exceptions ++ name ∷ []) ps
raised_outer exceptions name [] f = tt
raised_outer exceptions name (p ∷ ps) f = (λ t x is. more_raised exceptions name t x (f.0 t x is), raised_outer exceptions name ps f.1)

pub raised_declared : (exceptions : List (List ℕ)) (ns : List Named) (outer : List Part) (text : List ℕ) → AllRaised exceptions ns × PartsRaised exceptions outer → AllRaised (exceptions ++ text ∷ []) (entered text (entity.Exception (exception.Declared (record { 0 = length exceptions }))) ns) × PartsRaised (exceptions ++ text ∷ []) outer
raised_declared exceptions ns outer text old =
    raised_entered (exceptions ++ text ∷ []) ns outer text (entity.Exception (exception.Declared (record { 0 = length exceptions }))) (get_last exceptions text)
    (λ t x is. more_raised exceptions text t x (old.0 t x is), raised_outer exceptions text outer old.1)

-- what is predefined has its own name
standard_raised : (exceptions : List (List ℕ)) (text : List ℕ) (x : Entity) (a b c d f g h : Bool) → (f ≡ true → text ≡ codes "CONSTRAINT_ERROR") → (g ≡ true → text ≡ codes "PROGRAM_ERROR") → (h ≡ true → text ≡ codes "STORAGE_ERROR") → cond a (Some entity.Integer) (cond b (Some entity.Boolean) (cond c (Some (entity.Truth true)) (cond d (Some (entity.Truth false)) (cond f (Some (entity.Exception exception.ConstraintError)) (cond g (Some (entity.Exception exception.ProgramError)) (cond h (Some (entity.Exception exception.StorageError)) None)))))) ≡ Some x → RaisedFits exceptions text x
standard_raised exceptions text x true b c d f g h p q r e = let is : entity.Integer ≡ x = cc e in rw (sym is) tt
standard_raised exceptions text x false true c d f g h p q r e = let is : entity.Boolean ≡ x = cc e in rw (sym is) tt
standard_raised exceptions text x false false true d f g h p q r e = let is : entity.Truth true ≡ x = cc e in rw (sym is) tt
standard_raised exceptions text x false false false true f g h p q r e = let is : entity.Truth false ≡ x = cc e in rw (sym is) tt
standard_raised exceptions text x false false false false true g h p q r e = let is : entity.Exception exception.ConstraintError ≡ x = cc e in rw (sym is) (p refl)
standard_raised exceptions text x false false false false false true h p q r e = let is : entity.Exception exception.ProgramError ≡ x = cc e in rw (sym is) (q refl)
standard_raised exceptions text x false false false false false false true p q r e = let is : entity.Exception exception.StorageError ≡ x = cc e in rw (sym is) (r refl)
standard_raised exceptions text x false false false false false false false p q r e = absurd (cc e)

predefined_raised : (exceptions : List (List ℕ)) (text : List ℕ) (x : Entity) → predefined text ≡ Some x → RaisedFits exceptions text x
unfolding predefined
predefined_raised exceptions text x e =
    standard_raised exceptions text x (bytes_eq text (codes "INTEGER")) (bytes_eq text (codes "BOOLEAN")) (bytes_eq text (codes "TRUE")) (bytes_eq text (codes "FALSE"))
    (bytes_eq text (codes "CONSTRAINT_ERROR")) (bytes_eq text (codes "PROGRAM_ERROR")) (bytes_eq text (codes "STORAGE_ERROR"))
    (text_same text (codes "CONSTRAINT_ERROR")) (text_same text (codes "PROGRAM_ERROR")) (text_same text (codes "STORAGE_ERROR")) e

inner_raised : (exceptions : List (List ℕ)) (withs : Withs) (text : List ℕ) (x : Entity) (own : Option Entity) (b : Bool) → ((y : Entity) → own ≡ Some y → RaisedFits exceptions text y) → inner_first own b (outermost withs text) ≡ Some x → RaisedFits exceptions text x
inner_raised exceptions withs text x (Some y) b w e = let is : y ≡ x = cc e in rw (sym is) (w y refl)
inner_raised exceptions withs text x None true w e = let is : entity.Procedure ≡ x = cc e in rw (sym is) tt
inner_raised exceptions withs text x None false w e =
    first_of_two (RaisedFits exceptions text) (predefined text) (unit_named withs text) x (predefined_raised exceptions text)
    (λ y. unit_only (RaisedFits exceptions text) withs text y tt) e

parts_raised : (exceptions : List (List ℕ)) (ps : List Part) → PartsRaised exceptions ps → (text : List ℕ) (x : Entity) → named_in text ps ≡ Some x → RaisedFits exceptions text x
parts_raised exceptions [] w text x e = absurd (cc e)
parts_raised exceptions (p ∷ ps) w text x e =
    first_of_two (RaisedFits exceptions text) (named text p.names) (from_part p.around (named_in text ps)) x (w.0 text)
    (λ y is. within_of (RaisedFits exceptions text) p.around (named_in text ps) y (λ kind r. tt) (parts_raised exceptions ps w.1 text) is) e

-- what is visible, where it is an exception, has the name
pub visible_raised : (k : Known) → PartsRaised k.exceptions (parts k) → (text : List ℕ) (x : Entity) → visible k text ≡ Some x → RaisedFits k.exceptions text x
unfolding visible
visible_raised k w text x e = inner_raised k.exceptions k.withs text x (named_in text (parts k)) (bytes_eq text k.procedure) (parts_raised k.exceptions (parts k) w text) e

-- an exception of a name is one of the program
raised_is : (exceptions : List (List ℕ)) (text : List ℕ) (e : Exception) → ExceptionFits exceptions text e → fits.exception_fits exceptions e ≡ true
raised_is exceptions text exception.ConstraintError f = refl
raised_is exceptions text exception.ProgramError f = refl
raised_is exceptions text exception.StorageError f = refl
raised_is exceptions text exception.EndError f = refl
raised_is exceptions text (exception.Declared n) f = lt-ltb n.0 (length exceptions) (get_within exceptions n.0 text f)

-- the exception that is found is one of the program
abbrev pub FoundIs : List (List ℕ) → Option Exception → Type 0
FoundIs exceptions None = Unit {0}
FoundIs exceptions (Some e) = fits.exception_fits exceptions e ≡ true

library_is : (exceptions : List (List ℕ)) (o : Option LibraryName) → FoundIs exceptions (exception_of_library o)
library_is exceptions (Some EndError) = refl
library_is exceptions (Some other) = tt
library_is exceptions None = tt

entity_is : (exceptions : List (List ℕ)) (text : List ℕ) (e : Entity) (alone : Bool) → RaisedFits exceptions text e → FoundIs exceptions (exception_in (Some e) alone)
entity_is exceptions text (entity.Exception e) true f = raised_is exceptions text e f
entity_is exceptions text (entity.Exception e) false f = tt
entity_is exceptions text e alone f = tt

named_is : (exceptions : List (List ℕ)) (text : List ℕ) (o : Option Entity) (alone : Bool) → ((e : Entity) → o ≡ Some e → RaisedFits exceptions text e) → FoundIs exceptions (exception_in o alone)
named_is exceptions text (Some e) alone w = entity_is exceptions text e alone (w e refl)
named_is exceptions text None alone w = tt

pub found_is : (k : Known) (name : NameTree) → PartsRaised k.exceptions (parts k) → FoundIs k.exceptions (exception_found k name)
unfolding exception_found
found_is k name w = by_root (is_library_root name.first.text)
  where
    by_root : (b : Bool) → FoundIs k.exceptions (cond b (exception_of_library (library_found k name.first name.rest)) (exception_in (visible k name.first.text) (is_empty name.rest)))
    by_root true = library_is k.exceptions (library_found k name.first name.rest)
    by_root false = named_is k.exceptions name.first.text (visible k name.first.text) (is_empty name.rest) (visible_raised k w name.first.text)

-- and so is that of a choice
or_others : (exceptions : List (List ℕ)) (o : Option Exception) → FoundIs exceptions o → fits.choice_fits exceptions (exception_or_others o) ≡ true
or_others exceptions (Some e) f = f
or_others exceptions None f = refl

choice_is : (k : Known) (c : ChoiceTree) → PartsRaised k.exceptions (parts k) → fits.choice_fits k.exceptions (choice_meant k c) ≡ true
choice_is k (named_choice name) w = or_others k.exceptions (exception_found k name) (found_is k name w)
choice_is k (others_choice spot) w = refl

pub choices_are : (k : Known) (cs : List ChoiceTree) → PartsRaised k.exceptions (parts k) → list_all (fits.choice_fits k.exceptions) (choices_meant k cs) ≡ true
choices_are k [] w = refl
choices_are k (c ∷ cs) w = both_parts (fits.choice_fits k.exceptions (choice_meant k c)) (list_all (fits.choice_fits k.exceptions) (choices_meant k cs)) (choice_is k c w) (choices_are k cs w)
