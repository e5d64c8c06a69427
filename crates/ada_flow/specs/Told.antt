-- How the answers of the code are tied to the outcomes of the flow of values.

use denote.Ref.{Bor}
use Rattle.std.specs.Prelude.{◌≡◌, ℕ, Bool, true, false, List, [], ◌∷◌, ◌++◌, map, not, Option, Some, None, IfSome, Result, Ok, Err}
use Rattle.std.specs.List.{slice_index_or}
use Rattle.std.specs.Option.{option_copied}
use Rattle.ada_text.specs.declared.spot.Spot.{Spot}
use Rattle.ada_text.specs.Exactly.{Exactly}
use Rattle.ada_flow.specs.declared.around.Around.{Around as HeldAround}
use Rattle.ada_flow.specs.declared.fault.Breach.{Breach}
use Rattle.ada_flow.specs.declared.fault.FlowFault.{FlowFault}
use Rattle.ada_flow.specs.declared.fault.FlowFault.TheVariants.{Broken, NoMemory}
use Rattle.ada_flow.specs.declared.gone.Gone.{Gone as HeldGone}
use Rattle.ada_flow.specs.declared.keeping.Keeping.{Keeping as HeldKeeping}
use Rattle.ada_flow.specs.declared.known.Known.{Known}
use Rattle.ada_flow.specs.declared.marks.Marks.{Marks}
use Rattle.ada_flow.specs.declared.raised.Raised.{Raised}
use Rattle.ada_flow.specs.declared.raised.Raised.TheVariants.{Unwanted, Wanted}
use Rattle.ada_flow.specs.declared.rule.Hold.{Hold}
use Rattle.ada_flow.specs.declared.rule.Hold.TheVariants.{Lost}
use Rattle.ada_flow.specs.declared.rule.Rule.{Rule}
use Rattle.ada_flow.specs.declared.tracks.Tracks.{Tracks as HeldTracks}
use Rattle.ada_program.specs.declared.program.Program.{Program}
use Rattle.ada_program.specs.declared.program.Branch.{Branch}
use Rattle.ada_program.specs.declared.program.Declaration.{Declaration}
use Rattle.ada_program.specs.declared.program.Expression.{Expression}
use Rattle.ada_program.specs.declared.program.FormalMode.{FormalMode}
use Rattle.ada_program.specs.declared.program.Handler.{Handler}
use Rattle.ada_program.specs.declared.program.Path.{Path}
use Rattle.ada_program.specs.declared.program.Right.{Right}
use Rattle.ada_program.specs.declared.program.Stmt.{Stmt}
use Rattle.ada_program.specs.declared.program.TypeNo.{TypeNo}
use Rattle.ada_program.specs.declared.program.Variable.{Variable}
use Rattle.ada_program.specs.declared.program.VariableKind.{VariableKind}
use Rattle.ada_program.specs.declared.program.VariableNo.{VariableNo}
use Rattle.ada_program.specs.Form.{component_number, PathForm, ItemForm, ExpressionForm, StmtsForm, branches_form, HandlersForm, no_handlers, a_handler, condition_form, declaration_form, handlers_form, path_form, right_form, stmts_form}
use Rattle.ada_program.specs.ProgramForm.{TypeForm, type_form, VariableForm, variable_form, BodyForm, nowhere}
use Rattle.ada_program.specs.WellFormed.{access_of}
use Rattle.ada_effects.specs.Effects.{Implicit, Effects, endings_free, passes}
use Rattle.ada_effects.specs.Found.{effects_in as effects_held}
use Rattle.ada_flow.specs.Tracking.{Tracks}
use Rattle.ada_flow.specs.Flow.{Outcome, faults, goes, Holds, Gone, Around, Keeping, are_as_good, formal_hold, handled, if_own, is_among, is_left, join_option, initializes, kept_from, left_finalized, left_option, uses_in_start, using_paths, in_loop, loop_flow, named_by_item, opened_by_all, without_freed_option, counting_start, exit_flow, gives_path, raising_if, return_flow, then_flow, declarations_flow, handlers_flow, stmts_flow, branches_flow, program_flow}

-- The judgement of a whole program: no rule is broken, or this is the first one, and where.
abbrev pub judgement : Outcome → Result (Unit {0}) (Spot × Rule)
judgement (faults spot rule) = Err (spot, rule)
judgement (goes normal raising) = Ok tt

-- The rule that is broken first, and where, if one is.
abbrev pub fault_in : Outcome → Option (Spot × Rule)
fault_in (faults spot rule) = Some (spot, rule)
fault_in (goes normal raising) = None

-- The place and the rule that a fault names; want of memory names none.
abbrev pub breach_of : FlowFault → Option (Spot × Rule)
breach_of (Broken spot rule) = Some (spot, rule)
breach_of NoMemory = None

-- The fault is the first one of a program: its judgement names that rule, at that place. Of want of memory nothing is said.
abbrev pub IsFirstFault : Program → FlowFault → Type 0
IsFirstFault program fault = IfSome (breach_of fault) (λ breach. judgement (program_flow program) ≡ Err breach)

-- Views of what the code keeps.

-- What the variables hold where a form comes to its end; nothing, where it does not.
abbrev pub held : Option Known → Option Holds
held None = None
held (Some known) = Some known.holds.items

-- The rule that is broken, and where, if one is.
abbrev pub broken : Option Breach → Option (Spot × Rule)
broken None = None
broken (Some breach) = Some (breach.spot, breach.rule)

-- The number of a type.
abbrev pub type_number : TypeNo → ℕ
type_number t = t.0

-- The number of a variable.
abbrev pub variable_number : VariableNo → ℕ
variable_number x = x.0

-- What is gone behind blocks, as the code keeps it.
abbrev pub gone_of : HeldGone → Gone
gone_of gone = record { types = map type_number gone.types.items; variables = map variable_number gone.variables.items }

-- Where a statement stands: the types of its program, the variables of its body, what is known of calls, the start of the innermost loop, and what goes
-- with blocks.
abbrev pub types_in : HeldAround → List TypeForm
types_in around = map type_form around.setting.types.now

-- The variables of its body.
abbrev pub variables_in : HeldAround → List VariableForm
variables_in around = map variable_form around.setting.variables.now

-- What is known of the calls of procedures.
abbrev pub effects_in : HeldAround → Effects
effects_in around = effects_held around.setting.effects

-- What is known of implicit calls.
abbrev pub implicit_around : HeldAround → Implicit
implicit_around around = (effects_in around).implicit

-- The components that a body tracks, as the code keeps them.
abbrev pub tracks_in : HeldTracks → Tracks
tracks_in tracks = record { first = tracks.first; components = map component_number tracks.components.now }

-- What the body of a statement tracks.
abbrev pub tracks_around : HeldAround → Tracks
tracks_around around = tracks_in around.setting.tracks

-- What a procedure keeps.
abbrev pub keeping_in : HeldKeeping → Keeping
keeping_in keeping = keeping.formals.items

-- What procedures keep, by their numbers.
abbrev pub keepings_in : List HeldKeeping → List Keeping
keepings_in kept = map keeping_in kept

-- The start of the loop around a form, as the code keeps it.
abbrev pub start_in : HeldAround → Option Holds
start_in around = option_copied around.start

-- What stands around a form, as the code keeps it.
abbrev pub around_of : HeldAround → Around
around_of around = record {
  effects = effects_in around;
  kept = keepings_in around.setting.kept.now;
  tracks = tracks_around around;
  owed = map variable_number around.setting.owed.now;
  start = start_in around;
  inside = gone_of around.inside.now;
  within = gone_of around.within.now;
}

-- Is there such a type, and is it marked? One past the last mark is not.
abbrev pub is_marked : Marks → Option ℕ → Bool
is_marked marks None = false
is_marked marks (Some t) = slice_index_or marks.at.items t false

-- The types that are marked.
abbrev pub marked_types : Marks → ℕ → Bool
marked_types marks t = is_marked marks (Some t)

-- These types are marked, and no others.
abbrev pub AreMarks : Marks → (types : List ℕ) → Type 0
AreMarks marks types = (t : ℕ) → is_marked marks (Some t) ≡ is_among types (Some t)

-- What variables hold where the collections and the record objects of the marked types are gone: those of a marked type are lost.
abbrev pub without_marked : List VariableForm → Marks → Holds → Holds
without_marked [] marks holds = []
without_marked (v ∷ vs) marks [] = []
without_marked (v ∷ vs) marks (h ∷ hs) = if_own (not (is_marked marks (access_of (Some v.kind)))) h ∷ without_marked vs marks hs

-- What is noted of the places where a form may raise an exception: nothing, where neither a handler nor a block around wants to know it; or
-- what the variables hold there.
pub data Noted : Type 0 where
  unwanted : Noted
  wanted : Option Holds → Noted

-- What the code has noted of raising points.
abbrev pub noted : Raised → Noted
noted Unwanted = unwanted
noted (Wanted holds) = wanted (held holds)

-- What is raised besides is noted, too.
abbrev pub also_noted : Noted → Option Holds → Noted
also_noted unwanted raising = unwanted
also_noted (wanted before) raising = wanted (join_option before raising)

-- What is left behind a block whose objects are finalized as it is left, on a way that may not be gone.
abbrev pub finalized_option : List VariableForm → Implicit → Gone → Option Holds → Option Holds
finalized_option variables implicit gone holds = left_option variables gone (without_freed_option variables (endings_free implicit gone.types) holds)

-- What is noted of a raising point in a block that is left, with which this goes.
abbrev pub noted_behind : Noted → List VariableForm → Implicit → Gone → Noted → Noted
noted_behind before variables implicit gone unwanted = before
noted_behind before variables implicit gone (wanted raising) = also_noted before (finalized_option variables implicit gone raising)

-- Nothing is noted yet, where as much is wanted.
abbrev pub emptied : Noted → Noted
emptied unwanted = unwanted
emptied (wanted before) = wanted None

-- What is noted of statements with these handlers: all, unless neither they nor anything around wants to know it.
abbrev pub noted_for : Noted → HandlersForm → Noted
noted_for (wanted before) hs = wanted None
noted_for unwanted no_handlers = unwanted
noted_for unwanted (a_handler choices fs hs) = wanted None

-- What is noted where a body begins, with formal parameters of these modes: what may be raised is wanted, if there are some.
abbrev pub noted_first : List FormalMode → Noted
noted_first [] = unwanted
noted_first (m ∷ ms) = wanted None

-- What is raised, as far as it is noted.
abbrev pub raised_by : Noted → Option Holds
raised_by unwanted = None
raised_by (wanted raising) = raising

-- Is anything wanted?
abbrev pub is_wanted : Noted → Bool
is_wanted unwanted = false
is_wanted (wanted before) = true

-- The answers of the code.

-- How a form ends, by what is noted before it: what the variables hold where it comes to its end, with what is noted then; or the rule that is
-- broken first.
abbrev pub ending : Noted → Outcome → Result (Option Holds × Noted) (Spot × Rule)
ending before (faults spot rule) = Err (spot, rule)
ending before (goes normal raising) = Ok (normal, also_noted before raising)

-- The answer for a form, with what is noted before and after it, is exactly its ending, want of memory aside.
abbrev pub Ends : Result (Option Known) FlowFault → (before after : Raised) → Outcome → Type 0
Ends answer before after outcome = Exactly (λ normal. (held normal, noted after)) breach_of answer (ending (noted before) outcome)

-- The answer for a form that comes to its end is exactly its outcome, with what the variables hold there.
abbrev pub Leads : {X : Type 0} → Result X FlowFault → Holds → (before after : Raised) → Outcome → Type 0
Leads answer holds before after outcome = Exactly (λ _. (Some holds, noted after)) breach_of answer (ending (noted before) outcome)

-- The answer for a form that raises nothing, with what the variables hold after it, is exactly its outcome.
abbrev pub Tells : {X : Type 0} → Result X Breach → Holds → Outcome → Type 0
Tells (Ok x) holds outcome = outcome ≡ goes (Some holds) None
Tells (Err breach) holds outcome = outcome ≡ faults breach.spot breach.rule

-- An end joins with what is known after the ways before it.
abbrev pub joined_end : Option Holds → Result (Option Holds × Noted) (Spot × Rule) → Result (Option Holds × Noted) (Spot × Rule)
joined_end so_far (Err breach) = Err breach
joined_end so_far (Ok end) = Ok (join_option so_far end.0, end.1)

-- The answer for branches of an `if` joins their ends, whatever is done where no condition is true; or it is the first fault of all.
abbrev pub Joins : Result (Option Known) FlowFault → (before after : Raised) → HeldAround → List Branch → Holds → Type 0
Joins (Ok joined) before after around branches holds = (others : StmtsForm) →
    ending (noted before) (branches_flow (types_in around) (variables_in around) (around_of around) (branches_form branches others) holds)
    ≡ joined_end (held joined) (ending (noted after) (stmts_flow (types_in around) (variables_in around) (around_of around) others holds))
Joins (Err fault) before after around branches holds = IfSome (breach_of fault) (λ breach. (others : StmtsForm) →
    ending (noted before) (branches_flow (types_in around) (variables_in around) (around_of around) (branches_form branches others) holds) ≡ Err breach)

-- How statements end with their handlers, by how they do themselves, and by what is noted of them.
abbrev pub end_handled : Noted → (passes : Bool) → (handlers : Holds → Outcome) → (normal : Option Holds) → Noted → Result (Option Holds × Noted) (Spot × Rule)
end_handled before passes handlers normal unwanted = Ok (normal, before)
end_handled before passes handlers normal (wanted None) = Ok (normal, before)
end_handled before passes handlers normal (wanted (Some raising)) =
    joined_end normal (ending (also_noted before (raising_if passes raising)) (handlers raising))

-- The answer for handlers joins their ends with that of their statements.
abbrev pub Handles : Result (Option Known) FlowFault → (after : Raised) → Result (Option Holds × Noted) (Spot × Rule) → Type 0
Handles answer after end = Exactly (λ normal. (held normal, noted after)) breach_of answer end

-- The answer for paths that are used names the leftmost rule that one breaks, and where, if there is one.
abbrev pub Follows : {X : Type 0} → Result X Breach → Option (Spot × Rule) → Type 0
Follows (Ok x) broken = broken ≡ None
Follows (Err breach) broken = broken ≡ Some (breach.spot, breach.rule)

-- Does an exit lead out of a loop, and out of blocks, with no less than is known at the loop's start? It does where there is no loop.
abbrev pub exit_keeps : List VariableForm → Implicit → Option Holds → (inside : Gone) → Holds → Bool
exit_keeps variables implicit None inside holds = true
exit_keeps variables implicit (Some start) inside holds = are_as_good (left_finalized variables implicit inside holds) start

-- The outcomes of forms, as the code keeps them.

-- An exit that stands here.
abbrev pub exit_in : HeldAround → Option ExpressionForm → Spot → Holds → Outcome
exit_in around condition spot holds = exit_flow (variables_in around) (tracks_around around) (implicit_around around) (start_in around) (gone_of around.inside.now) condition spot holds

-- A return that stands here.
abbrev pub return_in : HeldAround → Spot → Holds → Outcome
return_in around spot holds = return_flow (variables_in around) (around_of around).owed (gone_of around.within.now) spot holds

-- The handlers of statements that stand here, with what is known where an exception is raised.
abbrev pub handlers_in : HeldAround → List Handler → Holds → Outcome
handlers_in around handlers raising = handlers_flow (types_in around) (variables_in around) (around_of around) (handlers_form handlers) raising

-- How statements that stand here end with their handlers, by how they do themselves, and by what is noted of them.
abbrev pub handled_in : HeldAround → (before : Noted) → List Stmt → List Handler → (normal : Option Holds) → Noted →
    Result (Option Holds × Noted) (Spot × Rule)
handled_in around before statements handlers normal inner =
    end_handled before (passes (effects_in around) (stmts_form statements) (handlers_form handlers)) (handlers_in around handlers) normal inner

-- A loop that stands here, from its start.
abbrev pub turns_of : HeldAround → Option Expression → (leaves : Bool) → List Stmt → Spot → (start : Holds) → Outcome
turns_of around condition leaves body end start =
    loop_flow (tracks_around around) (condition_form condition) leaves end
    (λ place hs. stmts_flow (types_in around) (variables_in around) (in_loop place (around_of around)) (stmts_form body) hs) start

-- `loop`, or `while` with a condition.
abbrev pub loop_of : HeldAround → Option Expression → List Stmt → Spot → Holds → Outcome
loop_of around condition body end holds =
    turns_of around condition (is_left (condition_form condition) (stmts_form body)) body end
    (opened_by_all (variables_in around) (tracks_around around) (stmts_form body) holds)

-- `for`, behind its bounds.
abbrev pub for_of : HeldAround → (parameter : ℕ) → List Stmt → Spot → Holds → Outcome
for_of around parameter body end holds =
    turns_of around None true body end (counting_start (variables_in around) (tracks_around around) parameter (stmts_form body) holds)

-- An assignment, which is the first one of a take pair, or is not.
abbrev pub assignment_of : HeldAround → (cleared : Bool) → Path → Right → Holds → Outcome
assignment_of around cleared target value holds =
    using_paths (tracks_around around) (uses_in_start (types_in around) (variables_in around) (tracks_around around) (implicit_around around) (path_form target) (right_form value)) holds
    (initializes (variables_in around) (implicit_around around) (right_form value)
    (gives_path (types_in around) (variables_in around) (tracks_around around) cleared (path_form target) (right_form value) holds))

-- The component that an assignment goes to, if it goes to one.
abbrev pub target_of : Option (Bor Path) → Option PathForm
target_of None = None
target_of (Some path) = Some (path_form path.now)

-- The paths that items move.
abbrev pub named_by_items : List ItemForm → List PathForm
named_by_items [] = []
named_by_items (i ∷ is) = named_by_item i ++ named_by_items is

-- Declarations, in order.
abbrev pub declarations_of : HeldAround → List Declaration → Holds → Outcome
declarations_of around declarations holds = declarations_flow (types_in around) (variables_in around) (tracks_around around) (implicit_around around) (map declaration_form declarations) holds

-- What a variable of a kind is relied on for where its body begins, if it is a formal parameter of a mode, or if it is none.
abbrev pub first_hold : Option FormalMode → VariableKind → Hold
first_hold None kind = Lost
first_hold (Some mode) kind = formal_hold mode kind

-- The judgement of a body, with what it keeps of formal parameters of these modes where it breaks no rule.
abbrev pub kept_judgement : Outcome → List FormalMode → Result Keeping (Spot × Rule)
kept_judgement (faults spot rule) modes = Err (spot, rule)
kept_judgement (goes normal raising) modes = Ok (kept_from raising 0 modes)

-- A body, as the code keeps its parts. No rule of flow asks where its first token stands.
abbrev pub body_in : List FormalMode → List Variable → List Declaration → List Stmt → List Handler → (end_spot : Spot) → BodyForm
body_in modes variables declarations statements handlers end_spot = record {
  formals = modes;
  variables = map variable_form variables;
  declarations = map declaration_form declarations;
  statements = stmts_form statements;
  handlers = handlers_form handlers;
  start_spot = nowhere;
  end_spot = end_spot;
}

-- The declarations of a body, and then its statements with their handlers.
abbrev pub parts_of : HeldAround → List Declaration → List Stmt → List Handler → Holds → Outcome
parts_of around declarations statements handlers holds =
    then_flow (declarations_of around declarations holds)
    (λ at. handled (passes (effects_in around) (stmts_form statements) (handlers_form handlers)) (handlers_in around handlers)
    (stmts_flow (types_in around) (variables_in around) (around_of around) (stmts_form statements) at))
