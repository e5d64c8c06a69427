-- The law: the body of an operation touches nothing of the object that lies beside the record which is its formal parameter, and the object stays.

use Rattle.std.specs.Prelude.{◌≡◌, ℕ, ◌+◌, Bool, true, false, ◌==◌, ◌&&◌, List, [], ◌∷◌, Some}
use Rattle.ada_program.specs.declared.program.TypeDefinition.{TypeDefinition}
use Rattle.ada_program.specs.ProgramForm.{BodyForm}
use Rattle.ada_meaning.specs.declared.state.Id.{Id}
use Rattle.ada_meaning.specs.declared.state.Stage.TheVariants.{Existing}
use Rattle.ada_meaning.specs.declared.state.Value.{Value}
use Rattle.ada_meaning.specs.Frame.{Frame, is_return}
use Rattle.ada_meaning.specs.Frame as frame
use Rattle.ada_meaning.specs.State.{Master}
use Rattle.ada_meaning.specs.Step.{halts, moves, tells, asks, picks, places}
use Rattle.ada_meaning.specs.Named.{Object, State, Next, object_at, next}
use Rattle.ada_tracked.specs.Frames.{View}
use Rattle.ada_tracked.specs.Law.{TakesNone}
use Rattle.ada_tracked.specs.Looking.{LooksElsewhere}
use Rattle.ada_tracked.specs.Copying.{CopiesNone}
use Rattle.ada_tracked.specs.Seen.{IsWatched}
use Rattle.ada_untouched.specs.Untouched.{Untouched}
use Rattle.ada_untouched.specs.Unwritten.{Unwritten}
use Rattle.ada_beside.specs.Confined.{IsConfined}

-- These components of the object lie beside what the body may reach.
abbrev pub LieBeside : View → (reaches beside : ℕ → Bool) → Type 0
LieBeside w reaches beside = (d : ℕ) → reaches d ≡ true → beside (w.base + d) ≡ false

-- They are hidden, and nothing else.
abbrev pub hidden_beside : View → (beside : ℕ → Bool) → Id → (component : ℕ) → Bool
hidden_beside w beside o c = (o.0 == w.object.0) && beside c

-- No object is a ghost.
abbrev pub no_ghosts : Id → Bool
no_ghosts o = false

-- The object of a name exists afterwards, if it does.
abbrev pub Remains : Id → (before after : List Object) → Type 0
Remains o before after = (x : Object) → object_at before o ≡ Some x → x.stage ≡ Existing → (y : Object) × (object_at after o ≡ Some y) × (y.stage ≡ Existing)

-- A frame does nothing to controlled parts (7.6): where one does, its step is none of the body itself.
abbrev pub TreatsNone : Frame Value → Type 0
TreatsNone (frame.Treats v treatment tasks) = ⊥
TreatsNone f = Unit {0}

-- Something is left before the body ends, no controlled parts are to be treated first, and a master that is left has no object to take out.
abbrev pub IsWithin : List (Frame Value) → List Master → Type 0
IsWithin [] ms = Unit {0}
IsWithin (f ∷ k) ms = (is_return f ≡ false) × TreatsNone f × TakesNone f ms

-- Behind a step the body is confined still, and the object of its record has not ceased to exist.
pub record GoesOn (w : View) (reaches : ℕ → Bool) (before : List Object) (after : State) : Type 0 where
  pub confined : IsConfined w reaches after
  pub remains : Remains w.object before after.heap

-- Whatever comes next, and whatever is answered.
abbrev pub AllGoOn : View → (reaches : ℕ → Bool) → (before : List Object) → Next → Type 0
AllGoOn w reaches before (halts h) = Unit {0}
AllGoOn w reaches before (moves e s) = GoesOn w reaches before s
AllGoOn w reaches before (tells request e s) = GoesOn w reaches before s
AllGoOn w reaches before (asks request answers) = (granted : Bool) → GoesOn w reaches before (answers granted)
AllGoOn w reaches before (picks count taking) = ⊥

-- A step of such a body that looks at the object by the formal parameter alone, copies nothing that lies beside the record and stores nothing there with a record,
-- and assigns no record with controlled parts, neither looks at that nor writes it, and leaves the body so.
abbrev pub BodiesStayWithinTheirRecord : Type 0
BodiesStayWithinTheirRecord =
    (types : List TypeDefinition) (bodies : List BodyForm) (w : View) (reaches beside : ℕ → Bool) (s : State) → LieBeside w reaches beside
    → IsWatched w (places s) s.heap → LooksElsewhere w s → CopiesNone types w.object beside s → IsWithin s.control s.masters → IsConfined w reaches s
    → Untouched types (hidden_beside w beside) no_ghosts s × Unwritten (hidden_beside w beside) s × AllGoOn w reaches s.heap (next types bodies s)
