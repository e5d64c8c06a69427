-- What the code keeps of the deeds of a program: for each deed the marks of the callees that do it.

use Rattle.std.specs.Prelude.{◌≡◌, ◌↔◌, ℕ, Bool, true, false, ◌||◌, List, [], ◌∷◌, map, slice_index_or, Option, Some, None}
use Rattle.std.specs.Global.{Vec}
use Rattle.ada_deeds.specs.declared.deed.Callee.{Callee}
use Rattle.ada_deeds.specs.declared.deed.Deed.{Deed}
use Rattle.ada_deeds.specs.declared.deed.Deed.TheVariants as deed
use Rattle.ada_deeds.specs.declared.deeds.Deeds.{Deeds}
use Rattle.ada_deeds.specs.declared.deeds.Kind.{Kind}
use Rattle.ada_deeds.specs.declared.deeds.Kind.TheVariants as kind
use Rattle.ada_deeds.specs.Does.{Does}
use Rattle.ada_deeds.specs.Graph.{node_of}
use Rattle.ada_program.specs.declared.program.Exception.{Exception}
use Rattle.ada_program.specs.declared.program.Exception.TheVariants.{ConstraintError, ProgramError, StorageError, EndError, Declared}
use Rattle.ada_program.specs.ProgramForm.{ProgramForm}

-- The deed of an access type.
abbrev pub deed_numbered : Kind → ℕ → Deed
deed_numbered kind.Frees n = deed.Frees (record { 0 = n })
deed_numbered kind.Follows n = deed.Follows (record { 0 = n })

-- The marks of a number: none, if there is no such deed.
unfoldable pub row_at : List (Vec Bool) → ℕ → List Bool
row_at rows n = slice_index_or (map (λ row. row.items) rows) n []

-- The marks of an exception.
abbrev pub exception_row : Deeds → Exception → List Bool
exception_row deeds ConstraintError = deeds.constraint_error.items
exception_row deeds ProgramError = deeds.program_error.items
exception_row deeds StorageError = deeds.storage_error.items
exception_row deeds EndError = deeds.end_error.items
exception_row deeds (Declared e) = row_at deeds.declared.items e.0

-- The marks of a deed.
abbrev pub row_of : Deeds → Deed → List Bool
row_of deeds (deed.Raises e) = exception_row deeds e
row_of deeds (deed.Frees t) = row_at deeds.frees.items t.0
row_of deeds (deed.Follows t) = row_at deeds.follows.items t.0
row_of deeds deed.Allocates = deeds.allocates.items
row_of deeds deed.Calls = []

-- Is a node marked, if there is one?
abbrev pub is_marked : List Bool → Option ℕ → Bool
is_marked marks None = false
is_marked marks (Some n) = slice_index_or marks n false

-- Is a mark kept at all? Where none is, no callee does the deed.
abbrev pub has_marks : List Bool → Bool
has_marks [] = false
has_marks (mark ∷ marks) = true

-- May this exception come out of something, as the code keeps it?
abbrev pub is_raised : Deeds → Exception → Bool
is_raised deeds e = has_marks (row_of deeds (deed.Raises e))

-- May something free objects of this access type?
abbrev pub is_freed : Deeds → (access : ℕ) → Bool
is_freed deeds t = has_marks (row_of deeds (deed.Frees (record { 0 = t })))

-- May something free them, or follow its values?
abbrev pub is_used : Deeds → (access : ℕ) → Bool
is_used deeds t = is_freed deeds t || has_marks (row_of deeds (deed.Follows (record { 0 = t })))

-- Does a callee do a deed, as the code keeps it?
unfoldable pub does_in : Deeds → Deed → Callee → Bool
does_in deeds d c = is_marked (row_of deeds d) (node_of deeds.nodes.procedures deeds.nodes.types c)

-- Are these the deeds of a program?
abbrev pub KnowsDeeds : Deeds → ProgramForm → Type 0
KnowsDeeds deeds p = (d : Deed) (c : Callee) → (does_in deeds d c ≡ true) ↔ Does p d c

-- Does some exception come out of a callee, as the code keeps it?
abbrev pub RaisesSome : Deeds → Callee → Type 0
RaisesSome deeds c = (e : Exception) × (does_in deeds (deed.Raises e) c ≡ true)

-- Does none?
abbrev pub RaisesNone : Deeds → Callee → Type 0
RaisesNone deeds c = (e : Exception) → does_in deeds (deed.Raises e) c ≡ false

-- Does none of those that the program declares?
abbrev pub RaisesNoDeclared : Deeds → Callee → Type 0
RaisesNoDeclared deeds c = (n : ℕ) → does_in deeds (deed.Raises (Declared (record { 0 = n }))) c ≡ false
