-- Types of their own: operations nest beside those of others, wherever none of their own is open.

use Rattle.std.specs.Prelude.{◌≡◌, ℕ, Bool, true, false, ◌&&◌, not, List, Option, Some, None, AllPairs}
use Rattle.std.specs.List.{list_all, slice_get}
use Rattle.ada_program.specs.declared.program.ComponentKind.{ComponentKind}
use Rattle.ada_program.specs.declared.program.ComponentKind.TheVariants as component
use Rattle.ada_program.specs.declared.program.Operations.{Operations}
use Rattle.ada_program.specs.declared.program.ProcedureNo.{ProcedureNo}
use Rattle.ada_program.specs.declared.program.Program.{Program}
use Rattle.ada_program.specs.Controlled.{operations_in}
use Rattle.ada_program.specs.Freed.{FreesItsOwn}
use Rattle.ada_program.specs.Nested.{Callees, call_nests, callees_of, is_one_of, CollectionsNest}
use Rattle.ada_program.specs.ProgramForm.{TypeForm, ProgramForm, program_form}
use Rattle.ada_program.specs.WellFormed.{IsWellFormed, is_access, finalization_of, reached_components}
use Rattle.ada_meaning.specs.Law.{items_of}
use Rattle.ada_scopes.specs.Scopes.{InItsRuns, CollectTwoTypes}
use Rattle.ada_still.specs.Still.{CollectStill}

-- These access types are those of some, but for those of their own.
abbrev pub IsWithout : (own : ℕ → Bool) → (all others : List ℕ) → Type 0
IsWithout own all others = (t : ℕ) → is_one_of others t ≡ (is_one_of all t && not (own t))

-- A component holds no access value of one of these types (3.8).
abbrev pub is_other_kind : (own : ℕ → Bool) → ComponentKind → Bool
is_other_kind own (component.Integer initial) = true
is_other_kind own (component.Boolean initial) = true
is_other_kind own (component.Access access) = not (own access.0)

-- Nor does any component of an object.
abbrev pub are_other_kinds : (own : ℕ → Bool) → Option (List ComponentKind) → Bool
are_other_kinds own None = true
are_other_kinds own (Some components) = list_all (is_other_kind own) components

-- A procedure that overrides an operation, if one does, nests wherever the collections of all access types are open but for those of its own.
abbrev pub NestsBeside : (own : ℕ → Bool) → List TypeForm → Callees → Option ProcedureNo → Type 0
NestsBeside own types callees None = Unit {0}
NestsBeside own types callees (Some procedure) =
    (around : List ℕ) → ((t : ℕ) → is_access types t ≡ true → own t ≡ false → is_one_of around t ≡ true) → ((t : ℕ) → own t ≡ true → is_one_of around t ≡ false)
    → call_nests (slice_get callees procedure.0) around ≡ true

-- So does each operation of a type.
abbrev pub AllNestBeside : (own : ℕ → Bool) → List TypeForm → Callees → Operations → Type 0
AllNestBeside own types callees o =
    NestsBeside own types callees o.initialize × NestsBeside own types callees o.adjust × NestsBeside own types callees o.finalize

-- Objects of other types name none of these; what a call creates nests, too, where none of these is open around it; and operations nest beside all others.
pub record NestBeside (own : ℕ → Bool) (p : ProgramForm) : Type 0 where
  pub others : (t : ℕ) → own t ≡ false → are_other_kinds own (reached_components p.types t) ≡ true
  pub calls : (procedure : ℕ) (all others : List ℕ) → IsWithout own all others → call_nests (slice_get (callees_of p) procedure) all ≡ true
      → call_nests (slice_get (callees_of p) procedure) others ≡ true
  pub operations : (t : ℕ) → AllNestBeside own p.types (callees_of p) (operations_in (finalization_of p.types t))

-- No access type has two collections at a time (7.6.1), also where operations declare access types of their own: in each well-formed program whose collections nest,
-- and each of whose Frees is by the instance for what it frees, if they do so in still bodies alone, and nest beside the others.
abbrev pub OwnTypesHaveOneCollection : Type 0
OwnTypesHaveOneCollection =
    (program : Program) → IsWellFormed (program_form program) → CollectionsNest (program_form program) → FreesItsOwn (program_form program)
    → (own : ℕ → Bool) → CollectStill own (program_form program) → NestBeside own (program_form program)
    → InItsRuns program (λ last. AllPairs CollectTwoTypes (items_of last.masters))
