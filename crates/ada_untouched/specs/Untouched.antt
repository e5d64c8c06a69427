-- What the next step looks at, by the first of what is left to do: at no hidden component and at no ghost.

use Rattle.std.specs.Prelude.{◌≡◌, ◌≢◌, ◌⊎◌, ℕ, ◌+◌, ◌<◌, Bool, true, false, List, [], ◌∷◌, Option, Some, None}
use Rattle.std.specs.List.{slice_get}
use Rattle.ada_program.specs.declared.program.TypeDefinition.{TypeDefinition}
use Rattle.ada_program.specs.Form.{PathForm, RecordPathForm, ExpressionForm, reads, is_null, ItemForm, item_of_path, item_of_record, RightForm, value_of, StmtForm, assigns, assigns_record, frees, gets, StmtsForm, no_stmts, a_stmt}
use Rattle.ada_program.specs.Typed.{width_of}
use Rattle.ada_meaning.specs.declared.state.Id.{Id}
use Rattle.ada_meaning.specs.declared.state.Mode.{Mode}
use Rattle.ada_meaning.specs.declared.state.Mode.TheVariants.{Running, Raising, Exiting, Returning}
use Rattle.ada_meaning.specs.declared.state.Value.{Value}
use Rattle.ada_meaning.specs.declared.state.Value.TheVariants.{Null, Names, Scalar, Part}
use Rattle.ada_meaning.specs.Frame.{Frame}
use Rattle.ada_meaning.specs.Frame as frame
use Rattle.ada_meaning.specs.Heap.{Cell, Found, on_null, on_gone, on_other, finds}
use Rattle.ada_meaning.specs.State.{Item, Master, type_housed}
use Rattle.ada_meaning.specs.Step.{held, newest, selected, before_last}
use Rattle.ada_meaning.specs.Named.{Object, State, named, look, object_at, whole, inside}
pub use Rattle.ada_untouched.specs.Alike.{is_ghost}

-- Which components are hidden of the object that a value names.
abbrev pub hides : (hidden : Id → (component : ℕ) → Bool) → Value → (component : ℕ) → Bool
hides hidden Null c = false
hides hidden (Names o) c = hidden o c
hides hidden (Scalar v) c = false
hides hidden (Part o place) c = false

-- A component of the object that a value names is not hidden.
abbrev pub IsShown : (hidden : Id → (component : ℕ) → Bool) → Value → (component : ℕ) → Type 0
IsShown hidden v c = hides hidden v c ≡ false

-- Neither is any of so many components, from the first on.
abbrev pub AreShown : (hidden : Id → (component : ℕ) → Bool) → Value → (first count : ℕ) → Type 0
AreShown hidden v first count = (i : ℕ) → i < count → IsShown hidden v (first + i)

-- The object of a value may be looked for.
abbrev pub IsInSight : (ghosts : Id → Bool) → Value → Type 0
IsInSight ghosts v = is_ghost ghosts v ≡ false

-- A component of it may be read.
abbrev pub IsReadable : (hidden : Id → (component : ℕ) → Bool) → (ghosts : Id → Bool) → Value → (component : ℕ) → Type 0
IsReadable hidden ghosts v c = IsInSight ghosts v × IsShown hidden v c

-- These components may be followed from an access value (4.1.3): the next step reads the first one.
abbrev pub IsOpen : (hidden : Id → (component : ℕ) → Bool) → (ghosts : Id → Bool) → (selectors : List ℕ) → Value → Type 0
IsOpen hidden ghosts [] v = Unit {0}
IsOpen hidden ghosts (c ∷ cs) v = IsReadable hidden ghosts v c

-- So may those of a path from a variable that holds this.
abbrev pub LeadsOn : (hidden : Id → (component : ℕ) → Bool) → (ghosts : Id → Bool) → (selectors : List ℕ) → (root : Value) → Type 0
LeadsOn hidden ghosts cs v = IsOpen hidden ghosts (selected named v cs) (whole v)

-- And those up to the object in which its last component lies.
abbrev pub LeadsToHolder : (hidden : Id → (component : ℕ) → Bool) → (ghosts : Id → Bool) → (selectors : List ℕ) → (root : Value) → Type 0
LeadsToHolder hidden ghosts [] v = Unit {0}
LeadsToHolder hidden ghosts (c ∷ cs) v = IsOpen hidden ghosts (before_last (inside v c) cs) (whole v)

-- What a component holds may be looked for, if there is that component.
abbrev pub MayBeSought : (ghosts : Id → Bool) → (held : Option Value) → Type 0
MayBeSought ghosts None = Unit {0}
MayBeSought ghosts (Some v) = IsInSight ghosts v

-- So it is of a component of the object that is found.
abbrev pub MayBeFreed : (ghosts : Id → Bool) → (component : ℕ) → Found (Cell Value) → Type 0
MayBeFreed ghosts c on_null = Unit {0}
MayBeFreed ghosts c on_gone = Unit {0}
MayBeFreed ghosts c on_other = Unit {0}
MayBeFreed ghosts c (finds cell) = MayBeSought ghosts (slice_get cell.values c)

-- No ghost that is in its collection has its home in the item of a number (7.6.1), whether it exists or not.
abbrev pub HousesNoGhost : (ghosts : Id → Bool) → List Object → (item : ℕ) → Type 0
HousesNoGhost ghosts heap item = (o : Id) (x : Object) → ghosts o ≡ true → object_at heap o ≡ Some x → x.listed ≡ true → x.cell.home.item ≢ item

-- So it is with the newest of these items, or no objects have their home there.
abbrev pub NewestHousesNoGhost : (ghosts : Id → Bool) → List Object → List Item → Type 0
NewestHousesNoGhost ghosts heap [] = Unit {0}
NewestHousesNoGhost ghosts heap (i ∷ is) = (type_housed i.owned ≡ None) ⊎ HousesNoGhost ghosts heap i.number

-- So it is with the newest item of the innermost master.
abbrev pub InnermostHousesNoGhost : (ghosts : Id → Bool) → List Object → List Master → Type 0
InnermostHousesNoGhost ghosts heap [] = Unit {0}
InnermostHousesNoGhost ghosts heap (m ∷ ms) = NewestHousesNoGhost ghosts heap m.items

module _ (hidden : Id → (component : ℕ) → Bool) (ghosts : Id → Bool) (s : State) where
  -- A path leads on from its variable (4.1).
  abbrev pub PathIsOpen : PathForm → Type 0
  PathIsOpen path = LeadsOn hidden ghosts path.selectors (held named s path.root)

  -- It does so up to the object of its last component.
  abbrev pub HolderIsOpen : PathForm → Type 0
  HolderIsOpen path = LeadsToHolder hidden ghosts path.selectors (held named s path.root)

  -- The path to the object in which a record lies leads on.
  abbrev pub RecordIsOpen : RecordPathForm → Type 0
  RecordIsOpen p = LeadsOn hidden ghosts p.object.selectors (held named s p.object.root)

  -- What an expression reads next (4.4).
  abbrev pub ExpressionIsOpen : ExpressionForm → Type 0
  ExpressionIsOpen (reads path) = PathIsOpen path
  ExpressionIsOpen (is_null equal path) = PathIsOpen path
  ExpressionIsOpen e = Unit {0}

  -- What an item reads next (4.3.1).
  abbrev pub ItemIsOpen : ItemForm → Type 0
  ItemIsOpen (item_of_path path) = PathIsOpen path
  ItemIsOpen (item_of_record p) = RecordIsOpen p
  ItemIsOpen i = Unit {0}

  -- What the first of some items does.
  abbrev pub ItemsAreOpen : List ItemForm → Type 0
  ItemsAreOpen [] = Unit {0}
  ItemsAreOpen (i ∷ is) = ItemIsOpen i

  -- What an assignment reads next (5.2).
  abbrev pub RightIsOpen : RightForm → Type 0
  RightIsOpen (value_of path) = PathIsOpen path
  RightIsOpen right = Unit {0}

  -- What a Free looks at next (13.11.2): the object of a variable, or a path to a component.
  abbrev pub FreedIsOpen : (selectors : List ℕ) → (root : Value) → Type 0
  FreedIsOpen [] v = IsInSight ghosts v
  FreedIsOpen (c ∷ cs) v = LeadsToHolder hidden ghosts (c ∷ cs) v

  -- What a statement looks at as it begins (5.1).
  abbrev pub StatementIsOpen : StmtForm → Type 0
  StatementIsOpen (assigns target right) = HolderIsOpen target
  StatementIsOpen (assigns_record target items) = RecordIsOpen target
  StatementIsOpen (frees access path) = FreedIsOpen path.selectors (held named s path.root)
  StatementIsOpen (gets target) = HolderIsOpen target
  StatementIsOpen f = Unit {0}

  -- What the first of some statements looks at.
  abbrev pub StatementsAreOpen : StmtsForm → Type 0
  StatementsAreOpen no_stmts = Unit {0}
  StatementsAreOpen (a_stmt f fs) = StatementIsOpen f

  -- What a jump looks at that comes to a frame: an object, where it comes out of an operation that was to begin a part of it (7.6.1).
  abbrev pub JumpIsOpen : Frame Value → Type 0
  JumpIsOpen (frame.Awaits v by done of part tasks) = IsInSight ghosts v
  JumpIsOpen f = Unit {0}

module _ (types : List TypeDefinition) (hidden : Id → (component : ℕ) → Bool) (ghosts : Id → Bool) (s : State) where
  -- What a frame looks at, where no jump is on its way. A record that is copied hides none of its components (4.3.1). An object is treated whose components may
  -- be hidden (7.6, 7.6.1), or a part of it comes to have a value. The object that is taken out of its collection as a master is left (7.6.1) is none of the
  -- ghosts, wherever these are.
  abbrev pub FrameIsOpen : Frame Value → Type 0
  FrameIsOpen (frame.Does fs) = StatementsAreOpen hidden ghosts s fs
  FrameIsOpen (frame.Leaves mode) = InnermostHousesNoGhost ghosts s.heap s.masters
  FrameIsOpen (frame.Evaluates right) = RightIsOpen hidden ghosts s right
  FrameIsOpen (frame.Computes e) = ExpressionIsOpen hidden ghosts s e
  FrameIsOpen (frame.Follows cs) = IsOpen hidden ghosts cs (newest named s)
  FrameIsOpen (frame.Refers p) = RecordIsOpen hidden ghosts s p
  FrameIsOpen (frame.RefersIn place t) = IsInSight ghosts (newest named s)
  FrameIsOpen (frame.Opens path) = HolderIsOpen hidden ghosts s path
  FrameIsOpen (frame.OpensIn c) = IsReadable hidden ghosts (newest named s) c
  FrameIsOpen (frame.Fills items) = ItemsAreOpen hidden ghosts s items
  FrameIsOpen (frame.Copies first t) = IsInSight ghosts (newest named s) × AreShown hidden (newest named s) first (width_of types t)
  FrameIsOpen (frame.Targets c right) = IsInSight ghosts (newest named s)
  FrameIsOpen (frame.StoresIn v c) = IsInSight ghosts v
  FrameIsOpen (frame.TargetsRecord first t items) = IsInSight ghosts (newest named s)
  FrameIsOpen (frame.StoresRecord v first count) = IsInSight ghosts v
  FrameIsOpen (frame.Receives c) = IsInSight ghosts (newest named s)
  FrameIsOpen (frame.FreesIn access c) = IsReadable hidden ghosts (newest named s) c × MayBeFreed ghosts c (look s.heap (newest named s))
  FrameIsOpen (frame.Treats v treatment tasks) = IsInSight ghosts v
  FrameIsOpen (frame.Awaits v by done of part tasks) = IsInSight ghosts v
  FrameIsOpen (frame.Ends v) = IsInSight ghosts v
  FrameIsOpen (frame.GivesBack v cause pool) = IsInSight ghosts v
  FrameIsOpen (frame.ClearsIn v c) = IsInSight ghosts v
  FrameIsOpen f = Unit {0}

  -- What the first of what is left to do looks at, in a mode.
  abbrev pub FirstIsOpen : Mode → List (Frame Value) → Type 0
  FirstIsOpen m [] = Unit {0}
  FirstIsOpen Running (f ∷ k) = FrameIsOpen f
  FirstIsOpen (Raising e) (f ∷ k) = JumpIsOpen hidden ghosts s f
  FirstIsOpen Exiting (f ∷ k) = JumpIsOpen hidden ghosts s f
  FirstIsOpen Returning (f ∷ k) = JumpIsOpen hidden ghosts s f

-- The next step looks at no hidden component and at no ghost.
abbrev pub Untouched : List TypeDefinition → (hidden : Id → (component : ℕ) → Bool) → (ghosts : Id → Bool) → State → Type 0
Untouched types hidden ghosts s = FirstIsOpen types hidden ghosts s s.mode s.control
