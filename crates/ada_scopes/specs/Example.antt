-- The premises are met, and they are needed.

use Rattle.std.specs.Prelude.{◌≡◌, ℕ, List, [], ◌∷◌, map, Option, None, AllPairs}
use Rattle.ada_program.specs.declared.program.Program.{Program}
use Rattle.ada_program.specs.declared.program.TypeNo.{TypeNo}
use Rattle.ada_program.specs.Form.{nothing, calls, no_stmts, a_stmt, DeclarationForm, creates_pool, collects, declares, declares_record, declaration_forms, stmt_forms}
use Rattle.ada_program.specs.ProgramForm.{program_form}
use Rattle.ada_program.specs.WellFormed.{IsWellFormed}
use Rattle.ada_program.specs.Nested.{CollectionsNest}
use Rattle.ada_meaning.specs.declared.state.Id.{Id}
use Rattle.ada_meaning.specs.State.{declared, collection, Item, Master}
use Rattle.ada_meaning.specs.Named.{Object, State}
use Rattle.ada_meaning.specs.Law.{items_of}
use Rattle.ada_order.specs.Example.{InSomeRun}
use Rattle.ada_scopes.specs.Scopes.{InItsRuns, CollectTwoTypes, AreObjectsFirst, OperationsNest, OperationsFindOpen, OperationsNestAnywhere, lasting, IsOpenIn, IsListed, HoldsNames, ComponentsAreOutlivedIn}

-- A block, or the body of a procedure, is entered inside the main procedure. An object's first component is of an access type of the main procedure, and
-- its second one of an access type of the block or of the body.
pub record HoldsNearAndFar (program : Program) (s : State) : Type 0 where
  pub block : Master
  pub main : Master
  pub o : Id
  pub object : Object
  pub far : TypeNo
  pub near : TypeNo
  pub entered : s.masters ≡ block ∷ main ∷ []
  pub listed : IsListed s.heap o object
  pub first : HoldsNames (program_form program).types object.cell.access 0 far
  pub second : HoldsNames (program_form program).types object.cell.access 1 near
  pub far_is_open : IsOpenIn (main ∷ []) far.0
  pub near_is_open : IsOpenIn (block ∷ []) near.0

-- A well-formed program whose collections nest has a run that comes to such an object.
abbrev pub CollectionsOfBlocksNest : Type 0
CollectionsOfBlocksNest =
    (program : Program) × IsWellFormed (program_form program) × CollectionsNest (program_form program)
    × OperationsNest (program_form program) × InSomeRun program (λ events last. HoldsNearAndFar program last)

-- So has one that does nothing but call a procedure, whose body has such an object.
abbrev pub CollectionsOfCallsNest : Type 0
CollectionsOfCallsNest =
    (program : Program) × IsWellFormed (program_form program) × CollectionsNest (program_form program)
    × OperationsNest (program_form program) × (stmt_forms program ≡ a_stmt (calls 0 []) no_stmts)
    × InSomeRun program (λ events last. HoldsNearAndFar program last)

-- The innermost master owns a variable, and a collection that is older.
pub record HasObjectAbove (s : State) : Type 0 where
  pub variable : ℕ
  pub access : ℕ
  pub pool : Option ℕ
  pub m : Master
  pub ms : List Master
  pub entered : s.masters ≡ m ∷ ms
  pub owns : map (λ (i : Item). i.owned) m.items ≡ declared variable ∷ collection access pool ∷ []

-- A well-formed program whose collections nest has a run that comes to such a master.
abbrev pub ObjectsLieAbove : Type 0
ObjectsLieAbove =
    (program : Program) × IsWellFormed (program_form program) × CollectionsNest (program_form program)
    × OperationsNest (program_form program) × InSomeRun program (λ events last. HasObjectAbove last)

-- In a run of some program with these declarations, whose collections and operations nest, a collection or a pool is newer than an object of its master.
abbrev pub HasObjectBelow : List DeclarationForm → Type 0
HasObjectBelow declarations =
    (program : Program) × (declaration_forms program ≡ declarations) × CollectionsNest (program_form program) × OperationsNest (program_form program)
    × (InItsRuns program AreObjectsFirst → ⊥)

-- So it is where a variable is created before a pool, or a record object before a collection: neither program is well formed.
abbrev pub OrderIsNeeded : Type 0
OrderIsNeeded = HasObjectBelow (declares 0 nothing ∷ creates_pool 0 ∷ []) × HasObjectBelow (declares_record 0 2 None ∷ collects 1 ∷ [])

-- A well-formed program has an object that lasts longer than what its component names: the component's type has its collection in a block.
abbrev pub NestingIsNeeded : Type 0
NestingIsNeeded = (program : Program) × IsWellFormed (program_form program) × OperationsFindOpen (program_form program) × (ComponentsAreOutlivedIn program → ⊥)

-- An object is in its collection, while the collection of what its component names is gone.
pub record OutlastsTarget (program : Program) (s : State) : Type 0 where
  pub o : Id
  pub object : Object
  pub c : ℕ
  pub target : TypeNo
  pub listed : IsListed s.heap o object
  pub names : HoldsNames (program_form program).types object.cell.access c target
  pub gone : IsOpenIn (lasting object.cell.home.item s.masters) target.0 → ⊥

-- A well-formed program whose collections nest has a run that comes to such an object: its main procedure is being left, newest collection first.
abbrev pub CollectionsGoOneByOne : Type 0
CollectionsGoOneByOne =
    (program : Program) × IsWellFormed (program_form program) × CollectionsNest (program_form program)
    × OperationsFindOpen (program_form program) × InSomeRun program (λ events last. OutlastsTarget program last)

-- So it is while the body of a Finalize runs, which has a master of its own.
pub record OutlastsWhileCalled (program : Program) (s : State) : Type 0 where
  pub called : Master
  pub main : Master
  pub entered : s.masters ≡ called ∷ main ∷ []
  pub outlasts : OutlastsTarget program s

-- A well-formed program whose collections and operations nest has a run that comes to such an object: its main procedure is being left, and an object of
-- the same collection is being finalized.
abbrev pub OperationsAreCalled : Type 0
OperationsAreCalled =
    (program : Program) × IsWellFormed (program_form program) × CollectionsNest (program_form program)
    × OperationsFindOpen (program_form program) × InSomeRun program (λ events last. OutlastsWhileCalled program last)

-- A well-formed program whose collections and operations nest has an operation that does not nest just anywhere: a Finalize declares a record object with a
-- component of an access type of the main procedure.
abbrev pub OperationsMayFindOpen : Type 0
OperationsMayFindOpen =
    (program : Program) × IsWellFormed (program_form program) × CollectionsNest (program_form program)
    × OperationsFindOpen (program_form program) × (OperationsNestAnywhere (program_form program) → ⊥)

-- A well-formed program whose collections nest has a run that comes to two collections of one access type: a Finalize creates one, and then it is called for
-- an object of its own.
abbrev pub OperationsMustNest : Type 0
OperationsMustNest =
    (program : Program) × IsWellFormed (program_form program) × CollectionsNest (program_form program)
    × (InItsRuns program (λ last. AllPairs CollectTwoTypes (items_of last.masters)) → ⊥)

-- One whose operations nest has a run that comes to an object that lasts longer than what its component names: an Initialize creates it, where the collection
-- of that is not open.
abbrev pub OperationsMustFindOpen : Type 0
OperationsMustFindOpen =
    (program : Program) × IsWellFormed (program_form program) × CollectionsNest (program_form program) × OperationsNest (program_form program)
    × (ComponentsAreOutlivedIn program → ⊥)
