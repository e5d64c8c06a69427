-- The body of an Adjust assigns a tracked component of its formal parameter to a variable, makes it null, and copies a record that lies in its own object.

use Rattle.std.proofs.Common.{◌≡◌, ℕ, zero, suc, ◌+◌, ◌<◌, true, false, List, [], ◌∷◌, Some, None, pos, refl, arith}
use Rattle.ada_values.specs.declared.value.Value.TheVariants.{Integer}
use Rattle.ada_program.specs.declared.program.ComponentKind.TheVariants as component
use Rattle.ada_program.specs.declared.program.PartKind.TheVariants as part
use Rattle.ada_program.specs.declared.program.TypeDefinition.{TypeDefinition}
use Rattle.ada_program.specs.declared.program.TypeDefinition.TheVariants as definition
use Rattle.ada_program.specs.Form.{PathForm, value_of, nothing, assigns, no_stmts, a_stmt}
use Rattle.ada_program.specs.ProgramForm.{nowhere}
use Rattle.ada_meaning.specs.declared.state.Id.{Id}
use Rattle.ada_meaning.specs.declared.state.Mode.TheVariants.{Running}
use Rattle.ada_meaning.specs.declared.state.Stage.TheVariants.{Existing}
use Rattle.ada_meaning.specs.declared.state.Value.{Value}
use Rattle.ada_meaning.specs.declared.state.Value.TheVariants.{Names, Scalar, Part}
use Rattle.ada_meaning.specs.Frame as frame
use Rattle.ada_meaning.specs.Step.{computed, places}
use Rattle.ada_meaning.specs.Named.{Object, State, next}
use Rattle.ada_meaning.proofs.OperationExamples.{vec, no_name, component_of}
use Rattle.ada_tracked.specs.Frames.{View}
use Rattle.ada_tracked.specs.Seen.{seen_state, plainly, behind, IsWatched}
use Rattle.ada_tracked.specs.Seen as waiting
use Rattle.ada_tracked.specs.Copying.{is_tracked_at}
use Rattle.ada_tracked.specs.Example.{ReadsTracked, AssignsTracked, CopiesUntracked, StoresBeside, PremisesAreMet}

-- An object with these components.
abbrev an_object : List Value → Object
an_object vs = record {
  cell = record { access = 0; number = 1; home = record { item = 0; pool = Some 0; subpool = None }; values = vs; parts = [] };
  stage = Existing;
  listed = true;
  out = true;
}

-- The object of the formal parameter, and the one that its component names. A component of that and a variable name the former.
abbrev adjusted : Id
adjusted = record { 0 = 0 }

abbrev shared : Value
shared = Names (record { 0 = 1 })

-- The first component of the object is tracked.
abbrev view : View
view = record { tracks = record { first = 2; components = 0 ∷ [] }; object = adjusted; base = 0 }

-- It is read next, and goes to a variable.
abbrev before : State
before = record {
  activations = record { procedure = Some 0; places = Part adjusted (record { component = 0; part = 0 }) ∷ Names adjusted ∷ []; operands = [] } ∷ [];
  masters = [];
  control =
      frame.Evaluates (value_of (record { root = 0; of_record = false; selectors = 0 ∷ []; spot = nowhere })) ∷ frame.Stores 1 ∷ frame.Does no_stmts
      ∷ frame.Returns [] [] ∷ [];
  mode = Running;
  input = [];
  next = 0;
  allocated = 2;
  born = 0;
  heap = an_object (shared ∷ []) ∷ an_object (Names adjusted ∷ []) ∷ [];
}

abbrev after : State
after = computed shared (record before { control = frame.Stores 1 ∷ frame.Does no_stmts ∷ frame.Returns [] [] ∷ [] })

watched : IsWatched view (places before) before.heap
watched = record {
  object = an_object (shared ∷ []);
  at_object = refl;
  existing = refl;
  below = (omega arith, tt);
  apart = (tt, tt);
  no_references = (refl, tt);
  formal = (refl, refl);
  count = refl;
}

reads_tracked : ReadsTracked [] [] view before (seen_state view before) after (seen_state view after)
unfolding next
reads_tracked = record {
  before = record { seen = plainly tt refl; watched = watched; elsewhere = (refl, tt); copies = tt; simple = (omega arith, tt) };
  behind = record { seen = plainly tt refl; watched = watched; elsewhere = (refl, tt); copies = tt; simple = ((omega arith, omega arith), tt) };
  holds = (shared, refl, λ none. absurd (cc));
  variable_names_it = (1, refl);
  component_names_it = (record { 0 = 1 }, 0, refl);
  follows = refl;
  reads = refl;
}

-- It becomes null.
abbrev path : PathForm
path = record { root = 0; of_record = false; selectors = 0 ∷ []; spot = nowhere }

abbrev assigning : State
assigning = record before { control = frame.Does (a_stmt (assigns path nothing) no_stmts) ∷ frame.Returns [] [] ∷ [] }

abbrev found : State
found = computed (Names adjusted) (record before { control = frame.Targets 0 nothing ∷ frame.Does no_stmts ∷ frame.Returns [] [] ∷ [] })

abbrev followed : State
followed = record before { control = frame.Evaluates nothing ∷ frame.StoresIn (Names adjusted) 0 ∷ frame.Does no_stmts ∷ frame.Returns [] [] ∷ [] }

assigns_tracked : AssignsTracked [] [] view assigning (seen_state view assigning) found followed (seen_state view followed)
unfolding next
assigns_tracked = record {
  before = record { seen = plainly tt refl; watched = watched; elsewhere = (refl, tt); copies = tt; simple = ((omega arith, tt), tt) };
  on_the_way = record { seen = behind (waiting.assigning nothing) 0 2 nowhere no_stmts (frame.Returns [] [] ∷ []) [] refl refl refl refl refl; watched = watched; elsewhere = (refl, tt); copies = tt; simple = (tt, tt) };
  behind = record { seen = plainly tt refl; watched = watched; elsewhere = (refl, tt); copies = tt; simple = (tt, tt) };
  finds = refl;
  follows = refl;
  begins = refl;
}

-- type Weight is record Grams : Integer; end record
abbrev weights : List TypeDefinition
weights =
    definition.Record no_name (vec (component_of (part.Elementary (component.Integer (pos 0))) 0 0 ∷ []) (omega arith)) (vec (component.Integer (pos 0) ∷ []) (omega arith)) None ∷ []

-- A Weight lies in the object behind the component that is tracked.
abbrev grams : Value
grams = Scalar (Integer (pos 5))

abbrev weighed : Object
weighed = an_object (shared ∷ grams ∷ [])

-- It is copied into a new object.
abbrev copying : State
copying = record before {
  activations = record { procedure = Some 0; places = Part adjusted (record { component = 0; part = 0 }) ∷ Names adjusted ∷ []; operands = Names adjusted ∷ [] } ∷ [];
  control = frame.Copies 1 0 ∷ frame.Fills [] ∷ frame.Creates 1 1 ∷ frame.Stores 1 ∷ frame.Does no_stmts ∷ frame.Returns [] [] ∷ [];
  heap = weighed ∷ an_object (Names adjusted ∷ []) ∷ [];
}

abbrev copied : State
copied = record copying {
  activations = record { procedure = Some 0; places = Part adjusted (record { component = 0; part = 0 }) ∷ Names adjusted ∷ []; operands = grams ∷ [] } ∷ [];
  control = frame.Fills [] ∷ frame.Creates 1 1 ∷ frame.Stores 1 ∷ frame.Does no_stmts ∷ frame.Returns [] [] ∷ [];
}

weighed_there : IsWatched view (places copying) copying.heap
weighed_there = record {
  object = weighed;
  at_object = refl;
  existing = refl;
  below = (omega arith, tt);
  apart = (tt, tt);
  no_references = (refl, tt);
  formal = (refl, refl);
  count = refl;
}

-- The second component is not tracked.
none_copied : (i : ℕ) → i < 1 → is_tracked_at view (1 + i) ≡ false
none_copied zero lt = refl
none_copied (suc i) lt = absurd (omega (arith, lt))

copies_untracked : CopiesUntracked weights [] view copying (seen_state view copying) copied (seen_state view copied)
unfolding next
copies_untracked = record {
  before = record { seen = plainly tt refl; watched = weighed_there; elsewhere = (refl, tt); copies = λ itself. none_copied; simple = (tt, tt) };
  behind = record { seen = plainly tt refl; watched = weighed_there; elsewhere = (refl, tt); copies = tt; simple = (tt, tt) };
  copied = (1, 0, frame.Fills [] ∷ frame.Creates 1 1 ∷ frame.Stores 1 ∷ frame.Does no_stmts ∷ frame.Returns [] [] ∷ [], refl, omega arith);
  itself = refl;
  tracked = (0, record { 0 = 1 }, refl, refl);
  follows = refl;
  follows_too = refl;
}

-- It gets another value.
abbrev heavier : Value
heavier = Scalar (Integer (pos 6))

abbrev storing : State
storing = record before {
  activations = record { procedure = Some 0; places = Part adjusted (record { component = 0; part = 0 }) ∷ Names adjusted ∷ []; operands = heavier ∷ [] } ∷ [];
  control = frame.StoresRecord (Names adjusted) 1 1 ∷ frame.Does no_stmts ∷ frame.Returns [] [] ∷ [];
  heap = weighed ∷ an_object (Names adjusted ∷ []) ∷ [];
}

abbrev stored : State
stored = record storing {
  activations = record { procedure = Some 0; places = Part adjusted (record { component = 0; part = 0 }) ∷ Names adjusted ∷ []; operands = [] } ∷ [];
  control = frame.Does no_stmts ∷ frame.Returns [] [] ∷ [];
  heap = an_object (shared ∷ heavier ∷ []) ∷ an_object (Names adjusted ∷ []) ∷ [];
}

heavier_there : IsWatched view (places stored) stored.heap
heavier_there = record {
  object = an_object (shared ∷ heavier ∷ []);
  at_object = refl;
  existing = refl;
  below = (omega arith, tt);
  apart = (tt, tt);
  no_references = (refl, tt);
  formal = (refl, refl);
  count = refl;
}

stores_beside : StoresBeside weights [] view storing (seen_state view storing) stored (seen_state view stored)
unfolding next
stores_beside = record {
  before = record { seen = plainly tt refl; watched = weighed_there; elsewhere = (refl, tt); copies = λ itself. none_copied; simple = (tt, tt) };
  behind = record { seen = plainly tt refl; watched = heavier_there; elsewhere = (refl, tt); copies = tt; simple = (tt, tt) };
  stored = (1, 1, frame.Does no_stmts ∷ frame.Returns [] [] ∷ [], refl, omega arith);
  tracked = (0, record { 0 = 1 }, refl, refl);
  changes = (1, λ same. cc);
  follows = refl;
  follows_too = refl;
}

pub premises_are_met : PremisesAreMet
premises_are_met = (
  ([], [], view, before, seen_state view before, after, seen_state view after, reads_tracked),
  ([], [], view, assigning, seen_state view assigning, found, followed, seen_state view followed, assigns_tracked),
  (weights, [], view, copying, seen_state view copying, copied, seen_state view copied, copies_untracked),
  (weights, [], view, storing, seen_state view storing, stored, seen_state view stored, stores_beside),
)
