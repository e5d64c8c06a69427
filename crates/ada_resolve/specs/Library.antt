-- The library's names, and those that are predefined.

use Rattle.std.specs.Prelude.{ℕ, Bool, true, false, ◌||◌, ◌&&◌, if◌then◌else◌, List, [], ◌∷◌, Option, Some, None, is_some, codes, bytes_eq}
use Rattle.ada_tree.specs.Names.{Ident}
use Rattle.ada_program.specs.declared.program.Exception.TheVariants.{ConstraintError, ProgramError, StorageError}
use Rattle.ada_resolve.specs.declared.fault.NameRule.{NameRule}
use Rattle.ada_resolve.specs.declared.fault.NameRule.TheVariants.{UnknownName, NotInProfile}
use Rattle.ada_resolve.specs.declared.library.LibraryName.{LibraryName}
use Rattle.ada_resolve.specs.declared.library.LibraryName.TheVariants.{TextIo, PutLine, UncheckedDeallocation, Finalization, Controlled, LimitedControlled, Pools, FirstFitPool, OfPools, RunInput, Get, EndError, OtherUnit, Unknown}
use Rattle.ada_resolve.specs.declared.scope.Entity.{Entity}
use Rattle.ada_resolve.specs.declared.scope.Entity.TheVariants.{Integer, Boolean, Truth, Exception}

-- What a predefined name stands for (A.1): Integer, Boolean, True and False, and the exceptions that the language raises (11.1).
unfoldable pub predefined : List ℕ → Option Entity
predefined text =
    if bytes_eq text (codes "INTEGER") then Some Integer else (
    if bytes_eq text (codes "BOOLEAN") then Some Boolean else (
    if bytes_eq text (codes "TRUE") then Some (Truth true) else (
    if bytes_eq text (codes "FALSE") then Some (Truth false) else (
    if bytes_eq text (codes "CONSTRAINT_ERROR") then Some (Exception ConstraintError) else (
    if bytes_eq text (codes "PROGRAM_ERROR") then Some (Exception ProgramError) else (
    if bytes_eq text (codes "STORAGE_ERROR") then Some (Exception StorageError) else None))))))

-- Whether a name that begins so is looked for in the library alone (10.1.1, A.2).
unfoldable pub is_library_root : List ℕ → Bool
is_library_root text =
    bytes_eq text (codes "ADA") || (bytes_eq text (codes "SYSTEM") || (bytes_eq text (codes "PROFILE_POOLS") || bytes_eq text (codes "RUN_INPUT")))

-- Whether the name is one of the primitives of controlled types (7.6), which nothing else may have.
unfoldable pub is_primitive : List ℕ → Bool
is_primitive text = bytes_eq text (codes "INITIALIZE") || (bytes_eq text (codes "ADJUST") || bytes_eq text (codes "FINALIZE"))

-- Whether no declaration may have this name: it is predefined, or a root of the library.
abbrev pub is_taken : List ℕ → Bool
is_taken text = is_some (predefined text) || is_library_root text

-- The rule that a name breaks of which nothing is visible (8.3): a library's root that stands for nothing alone, and a primitive of
-- controlled types (7.6), are not in the profile.
unfoldable pub missing_rule : List ℕ → NameRule
missing_rule text =
    if is_primitive text || (bytes_eq text (codes "ADA") || bytes_eq text (codes "SYSTEM")) then NotInProfile else UnknownName

-- The rule that a name breaks that no component has (4.1.3): the primitives' names are kept (7.6).
abbrev pub no_component_rule : List ℕ → NameRule
no_component_rule text = if is_primitive text then NotInProfile else UnknownName

-- Whether identifiers are these.
unfoldable pub spelled : List Ident → List (List ℕ) → Bool
spelled [] [] = true
spelled [] (t ∷ ts) = false
spelled (i ∷ is) [] = false
spelled (i ∷ is) (t ∷ ts) = bytes_eq i.text t && spelled is ts

-- Further names under Ada: Finalization and the two types from which controlled types are derived (7.6), and the unit Unchecked_Deallocate_Subpool (13.11.5),
-- which is not in use.
unfoldable pub other_in_ada : List Ident → LibraryName
other_in_ada rest =
    if spelled rest (codes "FINALIZATION" ∷ []) then Finalization else (
    if spelled rest (codes "FINALIZATION" ∷ codes "CONTROLLED" ∷ []) then Controlled else (
    if spelled rest (codes "FINALIZATION" ∷ codes "LIMITED_CONTROLLED" ∷ []) then LimitedControlled else (
    if spelled rest (codes "UNCHECKED_DEALLOCATE_SUBPOOL" ∷ []) then OtherUnit else Unknown)))

-- What the names under Ada stand for (A.2): Text_IO (A.10), Unchecked_Deallocation (13.11.2), and others.
unfoldable pub in_ada : List Ident → LibraryName
in_ada rest =
    if spelled rest (codes "TEXT_IO" ∷ []) then TextIo else (
    if spelled rest (codes "TEXT_IO" ∷ codes "PUT_LINE" ∷ []) then PutLine else (
    if spelled rest (codes "UNCHECKED_DEALLOCATION" ∷ []) then UncheckedDeallocation else other_in_ada rest))

-- The names under System that the profile has (13.11.4).
unfoldable pub in_system : List Ident → LibraryName
in_system rest =
    if spelled rest (codes "STORAGE_POOLS" ∷ codes "SUBPOOLS" ∷ []) then OtherUnit else (
    if spelled rest (codes "STORAGE_POOLS" ∷ codes "SUBPOOLS" ∷ codes "SUBPOOL_HANDLE" ∷ []) then OtherUnit else Unknown)

-- The names under Profile_Pools that are not in use yet: those of pools with subpools (13.11.4), and of what creates one.
unfoldable pub other_in_pools : List Ident → LibraryName
other_in_pools rest =
    if spelled rest (codes "SUBPOOL_POOL" ∷ []) then OfPools else (
    if spelled rest (codes "MARK_RELEASE_POOL" ∷ []) then OfPools else (
    if spelled rest (codes "CREATE_SUBPOOL" ∷ []) then OfPools else Unknown))

-- Profile_Pools and its names, which are the profile's own: First_Fit_Pool is a pool's type (13.11).
unfoldable pub in_pools : List Ident → LibraryName
in_pools rest =
    if spelled rest [] then Pools else (
    if spelled rest (codes "FIRST_FIT_POOL" ∷ []) then FirstFitPool else other_in_pools rest)

-- Run_Input and its names, which are the profile's own.
unfoldable pub in_input : List Ident → LibraryName
in_input rest =
    if spelled rest [] then RunInput else (
    if spelled rest (codes "GET" ∷ []) then Get else (
    if spelled rest (codes "END_ERROR" ∷ []) then EndError else Unknown))

-- What a name of the library stands for.
unfoldable pub library_name : List ℕ → List Ident → LibraryName
library_name first rest =
    if bytes_eq first (codes "ADA") then in_ada rest else (
    if bytes_eq first (codes "SYSTEM") then in_system rest else (
    if bytes_eq first (codes "PROFILE_POOLS") then in_pools rest else (
    if bytes_eq first (codes "RUN_INPUT") then in_input rest else Unknown)))
