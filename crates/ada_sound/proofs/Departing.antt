-- The collections of a master are left, one after another, up to the last one for whose objects operations may be called that touch storage (7.6.1): their members go
-- one by one, and components of others may name what has gone. No operation uses a value of an access type whose members have gone then. So a state stands for the
-- real one, in which those that have gone exist still, though their words are back; it does what the real one does.

use Rattle.std.proofs.Common.{◌≡◌, ◌≤◌, ℕ, Bool, true, false, List, [], ◌∷◌, ◌⊎◌}
use Rattle.std.specs.Prelude.{Option, Some}
use Rattle.std.specs.List.{slice_set}
use Rattle.ada_parts.specs.Task.{Task}
use Rattle.ada_program.specs.declared.program.Program.{Program}
use Rattle.ada_program.specs.ProgramForm.{program_form}
use Rattle.ada_program.specs.WellFormed.{is_access}
use Rattle.ada_meaning.specs.declared.event.Cause.TheVariants.{Leaving}
use Rattle.ada_meaning.specs.declared.state.Id.{Id}
use Rattle.ada_meaning.specs.declared.state.Mode.{Mode}
use Rattle.ada_meaning.specs.declared.state.Mode.TheVariants.{Running}
use Rattle.ada_meaning.specs.declared.state.Stage.TheVariants.{Existing, Gone}
use Rattle.ada_meaning.specs.declared.state.Value.TheVariants.{Names}
use Rattle.ada_meaning.specs.Frame as frame
use Rattle.ada_meaning.specs.Frame.{ends}
use Rattle.ada_meaning.specs.Named.{Object, State, object_at, returned}
use Rattle.ada_meaning.specs.State.{Item, Master, Owned, declared, collection, record_object, storage_pool, type_housed}
use Rattle.ada_meaning.specs.Law.{items_of}
use Rattle.ada_meaning.specs.declared.state.Value.{Value}
use Rattle.ada_deeds.specs.Implicit.{implicit_of}
use Rattle.ada_effects.specs.Effects.{Implicit}
use Rattle.ada_flow.specs.Flow.{is_among}
use Rattle.ada_meaning.specs.Step.{operands_of, places_of, treating}
use Rattle.ada_reaching.specs.Apart.{Apart}
use Rattle.ada_reaching.specs.Law.{AreApart, none_hidden}
use Rattle.ada_reaching.specs.Reaching.{IsReaching, none_unnamed}
use Rattle.ada_typed.proofs.Kept.{behind_call}
use Rattle.ada_untouched.specs.Alike.{StatesAlike}
use Rattle.ada_sound.proofs.Ahead.{ahead_in}
use Rattle.ada_sound.proofs.Grounds.{Ordinary}
use Rattle.ada_sound.specs.Agreement.{running_procedure}
use Rattle.ada_sound.proofs.Callers.{known_in}
use Rattle.ada_sound.proofs.Invariant.{Control, Known, NamesLow, ReadyIn, departs}
use Rattle.ada_sound.proofs.Leavings.{HoldNone}
use Rattle.ada_sound.proofs.Operates.{Operates}
use Rattle.ada_sound.proofs.Operating.{IsCalm}
use Rattle.ada_sound.proofs.Touching.{Touching}

-- An object that has gone, as if it existed still.
abbrev pub revived : Object → Object
revived x = record x { stage = Existing }

-- Members of the collection of this access type have gone: it is among these types.
abbrev pub has_gone : (types : List ℕ) → ℕ → Bool
has_gone types t = is_among types (Some t)

-- An object of such a type has gone, whose home is this item or a newer one, and its words are back; in the state that stands for this one it exists still.
pub record IsDeparted (types : List ℕ) (item : ℕ) (found seen : Option Object) : Type 0 where
  pub object : Object
  pub there : found ≡ Some object
  pub gone : object.stage ≡ Gone
  pub unlisted : object.listed ≡ false
  pub back : object.out ≡ false
  pub of_type : has_gone types object.cell.access ≡ true
  pub newer : item ≤ object.cell.home.item
  pub is : seen ≡ Some (revived object)

-- A state stands for another one, in which some such objects have departed: the ghosts. All else is the same.
pub record Seen (types : List ℕ) (item : ℕ) (ghosts : Id → Bool) (s v : State) : Type 0 where
  pub alike : StatesAlike none_hidden ghosts s v
  pub departed : (o : Id) → ghosts o ≡ true → IsDeparted types item (object_at s.heap o) (object_at v.heap o)

-- The newest item of the innermost of these masters is no declared object, and for the objects of one of its items operations may be called that touch storage.
pub record IsGoing (program : Program) (item : ℕ) (owned : Owned) (masters : List Master) : Type 0 where
  pub number : ℕ
  pub items : List Item
  pub outer : List Master
  pub is : masters ≡ record { number = number; items = record { number = item; owned = owned } ∷ items } ∷ outer
  pub goes : departs (ahead_in (program_form program)) (record { number = item; owned = owned } ∷ items) ≡ true

-- The end of an object of an item, if that is a collection, reaches none of these types (S8).
abbrev pub SparesGone : Implicit → (types : List ℕ) → Owned → Type 0
SparesGone implicit types (declared x) = Unit {0}
SparesGone implicit types (collection access pool) = (t : ℕ) → has_gone types t ≡ true → implicit.end_reaches access t ≡ false
SparesGone implicit types (record_object u) = Unit {0}
SparesGone implicit types (storage_pool declaration number) = Unit {0}

-- So it is with each of these items.
abbrev pub AllSpareGone : Implicit → (types : List ℕ) → List Item → Type 0
AllSpareGone implicit types [] = Unit {0}
AllSpareGone implicit types (i ∷ is) = SparesGone implicit types i.owned × AllSpareGone implicit types is

-- What is known of the types whose members have gone, while the innermost of these masters is left: they are access types; no objects of outer masters have components
-- of them; and the end of no object that goes later reaches one.
pub record AreGone (program : Program) (types : List ℕ) (items : List Item) (outer : List Master) : Type 0 where
  pub accessed : (t : ℕ) → has_gone types t ≡ true → is_access (program_form program).types t ≡ true
  pub unheld : (t : ℕ) → has_gone types t ≡ true → HoldNone (program_form program).types t (items_of outer)
  pub spared : AllSpareGone (implicit_of (program_form program)) types items

-- So it is with the items of the innermost master and with the outer ones.
abbrev pub AreGoneFrom : Program → (types : List ℕ) → List Master → Type 0
AreGoneFrom program types [] = ⊥
AreGoneFrom program types (m ∷ ms) = AreGone program types m.items ms

-- An object is of this access type.
abbrev pub HasAccess : List Object → Id → (access : ℕ) → Type 0
HasAccess heap o access = (x : Object) × (object_at heap o ≡ Some x) × (x.cell.access ≡ access)

-- It is of this collection.
abbrev pub IsMember : List Object → Id → (access item : ℕ) → (pool : Option ℕ) → Type 0
IsMember heap o access item pool =
    (x : Object) × (object_at heap o ≡ Some x) × (x.cell.access ≡ access) × (x.cell.home.item ≡ item) × (x.cell.home.pool ≡ pool)

-- Each ghost whose home is this item is of the access type of the item, if that is a collection: else there is no such ghost.
abbrev pub AreOfItem : (item : ℕ) → Owned → (ghosts : Id → Bool) → List Object → Type 0
AreOfItem item owned ghosts heap =
    (o : Id) (x : Object) → ghosts o ≡ true → object_at heap o ≡ Some x → x.cell.home.item ≡ item → type_housed owned ≡ Some x.cell.access

-- What is left of a member that is taken, and behind it.
abbrev pub ending : Id → (master item : ℕ) (pool : Option ℕ) → Mode → Control → Control
ending o master item pool mode k = frame.Ends (Names o) ∷ frame.GivesBack (Names o) (Leaving master item) pool ∷ frame.Leaves mode ∷ k

-- Where no operation runs: the next member is taken, or the item goes; or one is finalized or ends, which is no ghost.
pub data IsLeft (owned : Owned) (master item : ℕ) (ghosts : Id → Bool) (heap : List Object) : Control → Type 0 where
  next_member : (mode : Mode) (k : Control) → IsLeft owned master item ghosts heap (frame.Leaves mode ∷ k)
  treated : (access : ℕ) (pool : Option ℕ) (o : Id) (tasks : List Task) (mode : Mode) (k : Control) → owned ≡ collection access pool → ghosts o ≡ false → HasAccess heap o access
      → IsLeft owned master item ghosts heap (frame.Treats (Names o) (ends (Leaving master item)) tasks ∷ ending o master item pool mode k)
  confined : (access : ℕ) (pool : Option ℕ) (o : Id) (tasks : List Task) (mode : Mode) (k : Control) → owned ≡ collection access pool → ghosts o ≡ false → HasAccess heap o access
      → IsLeft owned master item ghosts heap (frame.Confines ∷ treating (Names o) (ends (Leaving master item)) tasks (ending o master item pool mode k))
  ended : (access : ℕ) (pool : Option ℕ) (o : Id) (mode : Mode) (k : Control) → owned ≡ collection access pool → ghosts o ≡ false → HasAccess heap o access
      → IsLeft owned master item ghosts heap (ending o master item pool mode k)

-- Where a master is left next, each variable is relied on to name what has its home in a master that is entered.
abbrev pub IsLow : (known : Known) (mode : Mode) (k : Control) (heap : List Object) (places operands : List Value) (masters : List Master) → ReadyIn known mode k heap places operands masters → Type 0
IsLow known Running (frame.Leaves left ∷ k) heap places operands masters ready = NamesLow heap places masters ready.holds
IsLow known mode k heap places operands masters ready = Unit {0}

-- The invariant holds where no operation runs, and that is so.
pub record IsKept (program : Program) (v : State) : Type 0 where
  pub ordinary : Ordinary program v
  pub low : IsLow (known_in program (running_procedure v) ordinary.suspensions) v.mode v.control v.heap (places_of v.activations) (operands_of v.activations) v.masters ordinary.ready.1

-- No operation runs: the state that stands for this one keeps the invariant.
pub record Between (program : Program) (s : State) : Type 0 where
  pub types : List ℕ
  pub master : ℕ
  pub item : ℕ
  pub owned : Owned
  pub ghosts : Id → Bool
  pub v : State
  pub seen : Seen types item ghosts s v
  pub runs : s.mode ≡ Running
  pub going : IsGoing program item owned s.masters
  pub are : AreGoneFrom program types s.masters
  pub here : AreOfItem item owned ghosts s.heap
  pub left : IsLeft owned master item ghosts s.heap s.control
  pub kept : IsKept program v

-- The words of a member are to go back that has ended: the state stands for the one behind that.
pub record Backing (program : Program) (s : State) : Type 0 where
  pub types : List ℕ
  pub master : ℕ
  pub item : ℕ
  pub access : ℕ
  pub pool : Option ℕ
  pub ghosts : Id → Bool
  pub v : State
  pub object : Id
  pub x : Object
  pub found : object_at s.heap object ≡ Some x
  pub gone : x.stage ≡ Gone
  pub out : x.out ≡ true
  pub of_access : x.cell.access ≡ access
  pub at_home : x.cell.home.item ≡ item
  pub from : pool ≡ x.cell.home.pool
  pub mode : Mode
  pub k : Control
  pub control : s.control ≡ frame.GivesBack (Names object) (Leaving master item) pool ∷ frame.Leaves mode ∷ k
  pub seen : Seen types item ghosts (record s { heap = slice_set s.heap object.0 (returned x); control = frame.Leaves mode ∷ k }) v
  pub runs : s.mode ≡ Running
  pub going : IsGoing program item (collection access pool) s.masters
  pub are : AreGoneFrom program types s.masters
  pub here : AreOfItem item (collection access pool) ghosts s.heap
  pub kept : IsKept program v

-- An operation runs for a member, or what it has called, or the operation of an object that one of these frees or allocates: none of these bodies uses a value of
-- a type whose members have gone.
pub record Within (program : Program) (s : State) : Type 0 where
  pub types : List ℕ
  pub access : ℕ
  pub master : ℕ
  pub item : ℕ
  pub pool : Option ℕ
  pub ghosts : Id → Bool
  pub v : State
  pub seen : Seen types item ghosts s v
  pub object : Id
  pub is_no_ghost : ghosts object ≡ false
  pub member : IsMember s.heap object access item pool
  pub tasks : List Task
  pub mode : Mode
  pub k : Control
  pub behind : Control
  pub is : behind ≡ frame.Confines ∷ treating (Names object) (ends (Leaving master item)) tasks (ending object master item pool mode k)
  pub calm : IsCalm (behind_call behind)
  pub accessed : is_access (program_form program).types access ≡ true
  pub apart : Apart
  pub are_apart : AreApart (program_form program) program.types.items (has_gone types) apart
  pub lower : List Master
  pub going : IsGoing program item (collection access pool) lower
  pub are : AreGoneFrom program types lower
  pub here : AreOfItem item (collection access pool) ghosts s.heap
  pub reaching : IsReaching (program_form program) (has_gone types) apart ghosts none_unnamed behind lower s
  pub goes : Operates program v ⊎ Touching program v

-- Such a collection goes.
abbrev pub Departing : Program → State → Type 0
Departing program s = Between program s ⊎ (Backing program s ⊎ Within program s)
