-- What flow says of a variable, and what the variable then holds; and what components hold.

use Rattle.std.specs.Prelude.{◌≡◌, ◌≢◌, ◌⊎◌, ℕ, ℤ, true, List, [], ◌∷◌, Option, Some, None, Contains}
use Rattle.std.specs.List.{slice_get}
use Rattle.ada_program.specs.declared.program.Choice.{Choice}
use Rattle.ada_program.specs.declared.program.Program.{Program}
use Rattle.ada_text.specs.declared.spot.Spot.{Spot}
use Rattle.ada_program.specs.Form.{ActualForm, PathForm, ExpressionForm, nothing, DeclarationForm, StmtForm, assigns, chooses, repeats, counts, encloses, StmtsForm, a_stmt, BranchesForm, otherwise, a_branch, HandlersForm, a_handler}
use Rattle.ada_program.specs.ProgramForm.{TypeForm, VariableForm, BodyForm, ProgramForm, main_body, program_form, body_forms, seen_in}
use Rattle.ada_program.specs.declared.program.TypeNo.{TypeNo}
use Rattle.ada_program.specs.declared.program.VariableKind.TheVariants as variable
use Rattle.ada_program.specs.WellFormed.{access_of, variable_kind, reached_components, kind_among}
use Rattle.ada_flow.specs.declared.rule.Hold.{Hold}
use Rattle.ada_flow.specs.declared.rule.Hold.TheVariants as hold
use Rattle.ada_flow.specs.Flow.{Holds, goes, hold_at, variable_access, declarations_flow, computed, bounds_flow, condition_flow, opened_by_all, counting_start, gone_with, Around, body_around, keeping_of, in_loop, in_block, begins_pair, stmt_flow, stmts_flow, first_holds}
use Rattle.ada_flow.specs.Tracking.{no_tracks}
use Rattle.ada_deeds.specs.Implicit.{implicit_of}
use Rattle.ada_effects.specs.Effects.{Implicit, effects_of}
use Rattle.ada_quiet.specs.Apart.{is_tracker}
use Rattle.ada_quiet.specs.Quiet.{is_plain_body}
use Rattle.ada_meaning.specs.declared.state.Id.{Id}
use Rattle.ada_meaning.specs.declared.state.Value.{Value}
use Rattle.ada_meaning.specs.declared.state.Value.TheVariants.{Null, Names, Scalar, Part}
use Rattle.ada_meaning.specs.declared.state.Stage.TheVariants.{Existing}
use Rattle.ada_meaning.specs.Frame.{Frame}
use Rattle.ada_meaning.specs.Frame as frame
use Rattle.ada_meaning.specs.State.{type_housed, Item, Master}
use Rattle.ada_meaning.specs.Heap.{finds}
use Rattle.ada_meaning.specs.Step.{before_last, last_of, held, procedure_of}
use Rattle.ada_meaning.specs.Named.{Object, State, object_at, named, whole, inside}
use Rattle.ada_meaning.specs.Law.{items_of}
use Rattle.ada_finalized.specs.Law.{NoOperationRuns}
use Rattle.ada_owners.specs.Places as owners
use Rattle.ada_owners.specs.Places.{value_at}
use Rattle.ada_owners.specs.Reliance.{Owns}
use Rattle.ada_owners.specs.Walks.{walk}
use Rattle.ada_sound.specs.Untracked.{untracked}

-- An open collection of the object's own access type is its home, or its own item, where it is a record object (7.6.1).
abbrev pub IsAtHome : List Master → Object → Type 0
IsAtHome masters object =
    (i : Item) × Contains (items_of masters) i × (i.number ≡ object.cell.home.item) × (type_housed i.owned ≡ Some object.cell.access)

-- An object of this name exists, of this access type, and its collection is open, if its words are out.
abbrev pub Exists : List Object → List Master → Option ℕ → Id → Type 0
Exists objects masters access o =
    (object : Object) × (object_at objects o ≡ Some object) × (object.stage ≡ Existing) × (access ≡ Some object.cell.access)
    × (object.out ≡ true → IsAtHome masters object)

-- An object of this name exists, and its collection is open, if its words are out.
abbrev pub IsThere : List Object → List Master → Id → Type 0
IsThere objects masters o =
    (object : Object) × (object_at objects o ≡ Some object) × (object.stage ≡ Existing) × (object.out ≡ true → IsAtHome masters object)

-- Null, or the name of an object of this access type that exists; or what refers to a record in an object that exists.
abbrev pub IsValid : List Object → List Master → Option ℕ → Value → Type 0
IsValid objects masters access Null = Unit {0}
IsValid objects masters access (Names o) = Exists objects masters access o
IsValid objects masters access (Scalar v) = ⊥
IsValid objects masters access (Part o first) = IsThere objects masters o

-- A value of a variable of this access type is as it is relied on to be.
abbrev pub IsAs : List Object → List Master → Option ℕ → Hold → Value → Type 0
IsAs objects masters access hold.Null v = v ≡ Null
IsAs objects masters access (hold.Kept r) v = IsValid objects masters access v
IsAs objects masters access (hold.Own r) v = IsValid objects masters access v
IsAs objects masters access (hold.Alias r) v = IsValid objects masters access v
IsAs objects masters access hold.Lost v = Unit {0}

-- What may be freed or moved: an owner, or null.
abbrev pub IsOwner : Hold → Type 0
IsOwner hold.Null = Unit {0}
IsOwner (hold.Kept r) = Unit {0}
IsOwner (hold.Own r) = Unit {0}
IsOwner (hold.Alias r) = ⊥
IsOwner hold.Lost = ⊥

-- A place in a run: what is left to do there.
abbrev pub Place : Type 0
Place = List (Frame Value)

-- A way through nested statements: past one, past a branch, past a handler, or past all statements that have handlers; into one of these; or
-- into the body of a `for` loop, where its parameter has one value, and this is the next, up to the last.
pub data Turning : Type 0 where
  past : Turning
  into : Turning
  counting : (next last : ℤ) → Turning

mutual
  -- Flow comes from statements, behind which there is another place, and from holds, inside of loops and blocks, on a way through them, to a
  -- place with these holds.
  pub data Comes (types : List TypeForm) (variables : List VariableForm) : Around → (outer : Place) → StmtsForm → Holds → List Turning → Place → Holds → Type 0 where
    here : {around : Around} {outer : Place} {fs : StmtsForm} {holds : Holds} → Comes types variables around outer fs holds [] (frame.Does fs ∷ outer) holds
    behind : {around : Around} {raising : Option Holds} {outer place : Place} {f : StmtForm} {fs : StmtsForm} {holds at : Holds} {way : List Turning}
        (mid : Holds) → stmt_flow types variables (untracked around) (begins_pair f fs) f holds ≡ goes (Some mid) raising → Comes types variables around outer fs mid way place at
        → Comes types variables around outer (a_stmt f fs) holds (past ∷ way) place at
    in_branches : {around : Around} {outer place : Place} {branches : BranchesForm} {fs : StmtsForm} {holds at : Holds} {way : List Turning}
        → ComesBy types variables around (frame.Does fs ∷ outer) branches holds way place at
        → Comes types variables around outer (a_stmt (chooses branches) fs) holds (into ∷ way) place at
    in_body : {around : Around} {raising : Option Holds} {outer place : Place}
        {condition : Option ExpressionForm} {body fs : StmtsForm} {end_spot : Spot} {holds at : Holds} {way : List Turning}
        (mid : Holds) → condition_flow no_tracks condition (opened_by_all variables no_tracks body holds) ≡ goes (Some mid) raising
        → Comes types variables (in_loop (Some (opened_by_all variables no_tracks body holds)) around) (frame.Repeats condition body ∷ frame.Does fs ∷ outer) body mid way place at
        → Comes types variables around outer (a_stmt (repeats condition body end_spot) fs) holds (into ∷ way) place at
    in_count : {around : Around} {raising : Option Holds} {outer place : Place}
        {x : ℕ} {low high : ExpressionForm} {body fs : StmtsForm} {end_spot : Spot} {holds at : Holds} {next last : ℤ} {way : List Turning}
        (mid : Holds) → bounds_flow no_tracks low high holds ≡ goes (Some mid) raising
        → Comes types variables (in_loop (Some (counting_start variables no_tracks x body mid)) around) (frame.Counts x next last body ∷ frame.Does fs ∷ outer)
        body (counting_start variables no_tracks x body mid) way place at
        → Comes types variables around outer (a_stmt (counts x low high body end_spot) fs) holds (counting next last ∷ way) place at
    in_enclosed : {around : Around} {outer place : Place}
        {ds : List DeclarationForm} {body fs : StmtsForm} {hs : HandlersForm} {holds at : Holds} {way : List Turning}
        → ComesInside types variables (in_block (gone_with ds) around) (frame.Does fs ∷ outer) ds body hs holds way place at
        → Comes types variables around outer (a_stmt (encloses ds body hs) fs) holds (into ∷ way) place at

  -- Flow comes to a place from the branches of an `if` on.
  pub data ComesBy (types : List TypeForm) (variables : List VariableForm) : Around → (outer : Place) → BranchesForm → Holds → List Turning → Place → Holds → Type 0 where
    in_others : {around : Around} {outer place : Place} {fs : StmtsForm} {holds at : Holds} {way : List Turning}
        → Comes types variables around outer fs holds way place at → ComesBy types variables around outer (otherwise fs) holds (into ∷ way) place at
    in_this : {around : Around} {raising : Option Holds} {outer place : Place}
        {e : ExpressionForm} {fs : StmtsForm} {branches : BranchesForm} {holds at : Holds} {way : List Turning}
        (mid : Holds) → computed no_tracks e holds ≡ goes (Some mid) raising → Comes types variables around outer fs mid way place at
        → ComesBy types variables around outer (a_branch e fs branches) holds (into ∷ way) place at
    in_next : {around : Around} {raising : Option Holds} {outer place : Place}
        {e : ExpressionForm} {fs : StmtsForm} {branches : BranchesForm} {holds at : Holds} {way : List Turning}
        (mid : Holds) → computed no_tracks e holds ≡ goes (Some mid) raising → ComesBy types variables around outer branches mid way place at
        → ComesBy types variables around outer (a_branch e fs branches) holds (past ∷ way) place at

  -- Flow comes to a place from handlers on, which begin with these holds (11.4).
  pub data ComesTo (types : List TypeForm) (variables : List VariableForm) : Around → (outer : Place) → HandlersForm → Holds → List Turning → Place → Holds → Type 0 where
    to_this : {around : Around} {outer place : Place} {choices : List Choice} {fs : StmtsForm} {hs : HandlersForm} {holds at : Holds} {way : List Turning}
        → Comes types variables around outer fs holds way place at → ComesTo types variables around outer (a_handler choices fs hs) holds (into ∷ way) place at
    to_next : {around : Around} {outer place : Place} {choices : List Choice} {fs : StmtsForm} {hs : HandlersForm} {holds at : Holds} {way : List Turning}
        → ComesTo types variables around outer hs holds way place at → ComesTo types variables around outer (a_handler choices fs hs) holds (past ∷ way) place at

  -- Flow comes to a place from the declarations of a master on: into its statements, or, from where these raise an exception, into their handlers.
  pub data ComesInside (types : List TypeForm) (variables : List VariableForm)
      : Around → (outer : Place) → List DeclarationForm → StmtsForm → HandlersForm → Holds → List Turning → Place → Holds → Type 0 where
    in_statements : {around : Around} {raising : Option Holds} {outer place : Place}
        {ds : List DeclarationForm} {body : StmtsForm} {hs : HandlersForm} {holds at : Holds} {way : List Turning}
        (mid : Holds) → declarations_flow types variables no_tracks around.effects.implicit ds holds ≡ goes (Some mid) raising
        → Comes types variables around (frame.Handles hs ∷ frame.Closes ∷ outer) body mid way place at
        → ComesInside types variables around outer ds body hs holds (into ∷ way) place at
    in_handlers : {around : Around} {raising normal : Option Holds} {outer place : Place}
        {ds : List DeclarationForm} {body : StmtsForm} {hs : HandlersForm} {holds at : Holds} {way : List Turning}
        (mid raised : Holds) → declarations_flow types variables no_tracks around.effects.implicit ds holds ≡ goes (Some mid) raising
        → stmts_flow types variables (untracked around) body mid ≡ goes normal (Some raised)
        → ComesTo types variables around (frame.Closes ∷ outer) hs raised way place at
        → ComesInside types variables around outer ds body hs holds (past ∷ way) place at

-- The procedure whose body runs: none, where it is the main one.
abbrev pub running_procedure : State → Option ℕ
running_procedure s = procedure_of s.activations

-- The body runs of a procedure that touches Integers and Booleans alone.
abbrev pub RunsPlainly : Program → State → Type 0
RunsPlainly program s =
    (number : ℕ) × (b : BodyForm) × (running_procedure s ≡ Some number) × (slice_get (body_forms program) number ≡ Some b)
    × (is_plain_body (program_form program).types b ≡ true)

-- The body runs of a procedure that overrides Adjust of a type which declares a component of an access type directly (3.10, 7.6).
abbrev pub RunsTracking : Program → State → Type 0
RunsTracking program s = (number : ℕ) × (running_procedure s ≡ Some number) × (is_tracker (program_form program) number ≡ true)

-- Flow speaks of a state where no operation of a controlled type runs, or where the body that runs is of neither kind of procedure (7.6).
abbrev pub IsSpokenOf : Program → State → Type 0
IsSpokenOf program s = NoOperationRuns s.control ⊎ (RunsPlainly program s ⊎ RunsTracking program s → ⊥)

-- What is left to do behind a body: nothing behind the main one, and what its caller was to do behind that of a procedure (6.5).
abbrev pub IsBehind : (procedure : Option ℕ) → (rest : Place) → Type 0
IsBehind None rest = rest ≡ []
IsBehind (Some number) rest = (actuals : List ActualForm) × (references : List Value) × (k : Place) × (rest ≡ frame.Returns actuals references ∷ k)

-- The holds that flow gives at a place, on this way from the declarations of a program's main body, where this is known of implicit calls.
abbrev pub IsFlowIn : Implicit → (p : ProgramForm) (rest : Place) (way : List Turning) (place : Place) (holds : Holds) → Type 0
IsFlowIn implicit p rest way place holds =
    ComesInside p.types p.variables (body_around (effects_of implicit p) (keeping_of implicit p) no_tracks (main_body p)) rest p.declarations p.statements p.handlers
    (first_holds p.formals p.variables) way place holds

-- So it is from the declarations of a procedure's body, or the main one, on.
abbrev pub IsFlowAt : (program : Program) (procedure : Option ℕ) (rest : Place) (way : List Turning) (place : Place) (holds : Holds) → Type 0
IsFlowAt program procedure rest way place holds =
    IsFlowIn (implicit_of (program_form program)) (seen_in procedure (program_form program)) rest way place holds

-- A way leads to one place, and flow says one thing there.
abbrev pub OneFlow : Type 0
OneFlow =
    (program : Program) (procedure : Option ℕ) (rest : Place) (way : List Turning) (place others : Place) (holds other : Holds)
    → IsFlowAt program procedure rest way place holds → IsFlowAt program procedure rest way others other → (place ≡ others) × (holds ≡ other)

-- What a variable holds in the running activation.
abbrev pub value_in : State → ℕ → Value
value_in s x = held named s x

-- The access type of a component of an object (3.8, 3.10): none, if it is an Integer or a Boolean.
abbrev pub component_access : List TypeForm → Object → (c : ℕ) → Option ℕ
component_access types object c = access_of (kind_among (reached_components types object.cell.access) c)

-- What a component of this access type holds: null, an Integer or a Boolean, or the name of an object of its access type that exists.
abbrev pub IsKept : List Object → List Master → Option ℕ → Value → Type 0
IsKept objects masters access Null = Unit {0}
IsKept objects masters access (Names o) = Exists objects masters access o
IsKept objects masters access (Scalar v) = Unit {0}
IsKept objects masters access (Part o first) = ⊥

-- A place owns what it names: a variable by what flow says of it, and each component. A component of an object that has left its collection is
-- read as null.
abbrev pub IsOwning : Holds → owners.Place → Type 0
IsOwning holds (owners.variable x) = Owns (hold_at holds x)
IsOwning holds (owners.component o c) = Unit {0}
IsOwning holds (owners.elsewhere activation x) = ⊥

-- The statement that begins sets a place to null: its path leads to an object, and names this component of it.
pub record IsCleared (s : State) (p : owners.Place) : Type 0 where
  pub path : PathForm
  pub later : StmtsForm
  pub outer : Place
  pub c : ℕ
  pub cs : List ℕ
  pub object : Id
  pub begins : s.control ≡ frame.Does (a_stmt (assigns path nothing) later) ∷ outer
  pub selects : path.selectors ≡ c ∷ cs
  pub leads : walk s.heap (whole (value_in s path.root)) (before_last (inside (value_in s path.root) c) cs) ≡ finds (Names object)
  pub is : p ≡ owners.component object (last_of (inside (value_in s path.root) c) cs)

-- Each variable holds what it is relied on to hold, and no two that own name one object. A record object that is not lost is there. Each component of
-- an object that is there holds null, an Integer or a Boolean, or names an object that exists. No object has two owners among variables and
-- components: only between the two statements of a take pair, of which the second sets the component to null that the first one read.
pub record Agrees (types : List TypeForm) (variables : List VariableForm) (s : State) (holds : Holds) : Type 0 where
  pub each : (x : ℕ) → IsAs s.heap s.masters (variable_access variables x) (hold_at holds x) (value_in s x)
  pub one_owner : (x y : ℕ) (o : Id) → x ≢ y → Owns (hold_at holds x) → Owns (hold_at holds y) → value_in s x ≡ Names o → value_in s y ≡ Names o → ⊥
  pub records : (x : ℕ) (t : TypeNo) → variable_kind variables x ≡ Some (variable.Record t)
      → hold_at holds x ≢ hold.Lost → value_in s x ≢ Null
  pub components : (o : Id) (object : Object) (c : ℕ) (v : Value)
      → object_at s.heap o ≡ Some object → owners.is_there object.stage ≡ true → slice_get object.cell.values c ≡ Some v
      → IsKept s.heap s.masters (component_access types object c) v
  pub one_owner_each : (p q : owners.Place) (o : Id) → IsOwning holds p → IsOwning holds q
      → value_at s.heap s.activations p ≡ Names o → value_at s.heap s.activations q ≡ Names o → (p ≡ q) ⊎ (IsCleared s p ⊎ IsCleared s q)
