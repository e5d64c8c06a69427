-- The rules of the flow of values: what each variable may be relied on for, from statement to statement.

use Rattle.std.specs.Prelude.{◌≡◌, ℕ, zero, suc, ◌+◌, Bool, true, false, ◌&&◌, ◌||◌, not, ◌==◌, nat_lt, if◌then◌else◌, List, [], ◌∷◌, ◌++◌, length, map, Option, Some, None}
use Rattle.std.specs.List.{list_any, slice_get, slice_index_or, slice_set}
use Rattle.ada_text.specs.declared.spot.Spot.{Spot}
use Rattle.ada_program.specs.declared.program.ComponentKind.{ComponentKind}
use Rattle.ada_program.specs.declared.program.ComponentKind.TheVariants as component
use Rattle.ada_program.specs.declared.program.Finalization.{Finalization}
use Rattle.ada_program.specs.declared.program.FormalMode.{FormalMode}
use Rattle.ada_program.specs.declared.program.FormalMode.TheVariants.{In, InOut}
use Rattle.ada_program.specs.declared.program.PartKind.{PartKind}
use Rattle.ada_program.specs.declared.program.PartKind.TheVariants as part
use Rattle.ada_program.specs.declared.program.ProcedureNo.{ProcedureNo}
use Rattle.ada_program.specs.declared.program.Program.{Program}
use Rattle.ada_program.specs.declared.program.VariableKind.{VariableKind}
use Rattle.ada_program.specs.declared.program.VariableKind.TheVariants as variable
use Rattle.ada_program.specs.Form.{ActualForm, in_value, in_null, in_access, in_record, in_out_path, in_out_access, in_out_component, in_out_record, PathForm, RecordPathForm, ExpressionForm, integer, boolean, reads, is_null, applied_to, chained, LinksForm, no_more_links, a_link, ItemForm, null_item, item_of_path, item_of_value, item_of_record, RightForm, nothing, value_of, allocates, allocates_default, computes, StmtForm, skips, assigns, assigns_record, frees, gets, writes, writes_text, chooses, repeats, counts, exits, calls, returns, raises, encloses, StmtsForm, no_stmts, a_stmt, BranchesForm, otherwise, a_branch, HandlersForm, no_handlers, a_handler, DeclarationForm, creates_pool, collects, declares, declares_record}
use Rattle.ada_program.specs.Parts.{has_component_among}
use Rattle.ada_program.specs.ProgramForm.{TypeForm, record_of, access_to, object_of, type_form, VariableForm, variable_form, BodyForm, nowhere, ProgramForm, main_body, program_form}
use Rattle.ada_program.specs.WellFormed.{record_components, object_in, named_in, is_inherited, access_of, variable_kind, selected_kind, path_access, is_this, is_borrower, names_borrower}
use Rattle.ada_effects.specs.Effects.{expression_raises, path_raises, record_path_raises, actuals_raise, items_raise, initial_raises, initial_starts, initial_frees, assignment_frees, endings_free, Effect, Implicit, Effects, call_raises, call_frees, passes, effect_of, known_of}
use Rattle.ada_deeds.specs.Implicit.{implicit_of}
use Rattle.ada_flow.specs.Aliases.{is_alias}
use Rattle.ada_flow.specs.Parts.{designate_part}
use Rattle.ada_flow.specs.Tracking.{Tracks, seen, is_tracked, is_whole_formal, tracked_numbers, with_tracked, judged, access_numbers, no_tracks, tracks_behind}
use Rattle.ada_flow.specs.declared.rule.Hold.{Hold}
use Rattle.ada_flow.specs.declared.rule.Hold.TheVariants.{Null, Kept, Own, Alias, Lost}
use Rattle.ada_flow.specs.declared.rule.Region.TheVariants.{Whole}
use Rattle.ada_flow.specs.declared.rule.Rule.{Rule}
use Rattle.ada_flow.specs.declared.rule.Rule.TheVariants.{LostValue, AliasMoved, TakePair, LoopState, UnsafePath, FormalNotOwned, RecordCopied}

-- What the variables of a body hold, by their numbers.
abbrev pub Holds : Type 0
Holds = List Hold

-- What a variable holds; one that is not declared yet is lost, and so is an Integer or a Boolean: nothing relies on it.
abbrev pub hold_at : Holds → ℕ → Hold
hold_at holds x = slice_index_or holds x Lost

-- What is known after two ways: of each variable what both say of it.
abbrev pub join_hold : Hold → Hold → Hold
join_hold Null Null = Null
join_hold Null (Kept r) = Own r
join_hold Null (Own r) = Own r
join_hold Null (Alias r) = Alias r
join_hold Null Lost = Lost
join_hold (Kept r) Null = Own r
join_hold (Kept Whole) (Kept Whole) = Kept Whole
join_hold (Kept Whole) (Own Whole) = Own Whole
join_hold (Kept r) (Alias q) = Lost
join_hold (Kept r) Lost = Lost
join_hold (Own r) Null = Own r
join_hold (Own Whole) (Kept Whole) = Own Whole
join_hold (Own Whole) (Own Whole) = Own Whole
join_hold (Own r) (Alias q) = Lost
join_hold (Own r) Lost = Lost
join_hold (Alias r) Null = Alias r
join_hold (Alias r) (Kept q) = Lost
join_hold (Alias r) (Own q) = Lost
join_hold (Alias Whole) (Alias Whole) = Alias Whole
join_hold (Alias r) Lost = Lost
join_hold Lost h = Lost

-- What is known of each variable where two ways meet.
abbrev pub join : Holds → Holds → Holds
join [] hs = []
join (g ∷ gs) [] = []
join (g ∷ gs) (h ∷ hs) = join_hold g h ∷ join gs hs

-- What is known where two ways meet, either of which may not be gone.
abbrev pub join_option : Option Holds → Option Holds → Option Holds
join_option None b = b
join_option (Some a) None = Some a
join_option (Some a) (Some b) = Some (join a b)

-- What flow answers for a form: the place and the rule that is broken first; or what each variable holds after it, where it comes to its end,
-- and what each holds where it raises an exception.
pub data Outcome : Type 0 where
  faults : Spot → Rule → Outcome
  goes : (normal raising : Option Holds) → Outcome

-- What a form raises is raised by the whole as well.
abbrev pub also_raises : Option Holds → Outcome → Outcome
also_raises before (faults spot rule) = faults spot rule
also_raises before (goes normal raising) = goes normal (join_option before raising)

-- Where a form doesn't come to its end, what is behind it isn't examined.
abbrev pub goes_on : Option Holds → Option Holds → (Holds → Outcome) → Outcome
goes_on None raising more = goes None raising
goes_on (Some holds) raising more = also_raises raising (more holds)

-- One form after another: the first fault stands.
abbrev pub then_flow : Outcome → (Holds → Outcome) → Outcome
then_flow (faults spot rule) more = faults spot rule
then_flow (goes normal raising) more = goes_on normal raising more

-- A form comes to its end with these holds; where it may raise an exception, it does so before it has changed any.
abbrev pub raising_if : Bool → Holds → Option Holds
raising_if false holds = None
raising_if true holds = Some holds

-- A form that comes to its end with what is known after it, and may raise with what is known before it.
abbrev pub ends_with : Bool → (before after : Holds) → Outcome
ends_with may_raise before after = goes (Some after) (raising_if may_raise before)

-- Paths that are used (4.1, 4.5.2, 5.2).

-- What a statement uses: a path, whose value is read, or an access value that is compared with null, or lent to a borrower, or moved: out of a
-- variable, or out of a component, which the same or the next statement overwrites then, or none does; or it is moved though an item before it moves
-- it already (4.8); or an Integer or a Boolean is given for a formal parameter of mode `in out`, though it is given for one before it (6.4.1); or an
-- access value is lent to a formal parameter of mode `in`, or handed over to one of mode `in out`, where another actual parameter before it begins with
-- the same variable and one of the two is for mode `in out`, or none is; or a component, which owns what it names or holds an Integer or a Boolean, is given
-- for a formal parameter of mode `in out`, or the object in which a record lies is passed with it, and that is unsafe, or it is not; or the path to the
-- object in which a record lies; or a record that is copied or passed, which may be the formal parameter whose components the body tracks (7.6); or a record
-- as a whole, which goes to what stands here, and of which some component would have two owners then, or none would (4.3.1, 5.2).
pub data Use : Type 0 where
  reads_it : PathForm → Use
  compares_it : PathForm → Use
  borrows_it : PathForm → Use
  moves_it : (overwritten : Bool) → PathForm → Use
  moves_again : PathForm → Use
  gives_again : PathForm → Use
  lends_it : (again : Bool) → PathForm → Use
  hands_it : (again : Bool) → PathForm → Use
  opens_it : (owning unsafe : Bool) → PathForm → Use
  passes_it : (unsafe : Bool) → PathForm → Use
  reaches_it : PathForm → Use
  shares_it : RecordPathForm → Use
  copies_to : (owning : Bool) → Spot → Use

unfoldable mutual
  -- The paths in an expression, in text order.
  pub uses_in : ExpressionForm → List Use
  uses_in (integer value) = []
  uses_in (boolean value) = []
  uses_in (reads path) = reads_it path ∷ []
  uses_in (is_null equal path) = compares_it path ∷ []
  uses_in (applied_to operator e) = uses_in e
  uses_in (chained e links) = uses_in e ++ uses_in_links links

  -- The paths in operands behind the first one.
  pub uses_in_links : LinksForm → List Use
  uses_in_links no_more_links = []
  uses_in_links (a_link operator e links) = uses_in e ++ uses_in_links links

-- The variable that a path is, where it is no component.
abbrev pub variable_of : List ℕ → (root : ℕ) → List ℕ
variable_of [] x = x ∷ []
variable_of (c ∷ cs) x = []

-- The variable, or the tracked component, that an item moves, if it moves one.
abbrev pub moved_by_item : Tracks → ItemForm → List ℕ
moved_by_item tracks null_item = []
moved_by_item tracks (item_of_path path) = variable_of (seen tracks path).selectors (seen tracks path).root
moved_by_item tracks (item_of_value e) = []
moved_by_item tracks (item_of_record p) = []

-- Are these the same selectors?
abbrev pub same_selectors : List ℕ → List ℕ → Bool
same_selectors [] [] = true
same_selectors [] (d ∷ ds) = false
same_selectors (c ∷ cs) [] = false
same_selectors (c ∷ cs) (d ∷ ds) = (c == d) && same_selectors cs ds

-- Are two paths one?
abbrev pub same_path : PathForm → PathForm → Bool
same_path a b = (a.root == b.root) && same_selectors a.selectors b.selectors

-- Is a path one of these?
abbrev pub is_named : List PathForm → PathForm → Bool
is_named [] path = false
is_named (p ∷ ps) path = same_path p path || is_named ps path

-- Is a path the component that the assignment goes to, if it goes to one?
abbrev pub is_target : (target : Option PathForm) → PathForm → Bool
is_target None path = false
is_target (Some target) path = same_path target path

-- How an item moves what its path names, behind items that name these paths: each path once, and of components the target's alone, which gets the
-- new object (4.8).
abbrev pub item_move : (target : Option PathForm) → (earlier : List PathForm) → PathForm → Use
item_move target earlier path = if is_named earlier path then moves_again path else moves_it (is_target target path) path

-- Is a component of an access type, and so owns what it names?
abbrev pub is_owning : ComponentKind → Bool
is_owning (component.Integer initial) = false
is_owning (component.Boolean initial) = false
is_owning (component.Access access) = true

-- Has a record type a component that owns what it names, at any depth?
abbrev pub owns_among : Option (List ComponentKind) → Bool
owns_among None = false
owns_among (Some components) = list_any is_owning components

-- Has the record type of a number such a component?
abbrev pub is_owning_record : List TypeForm → (record_type : ℕ) → Bool
is_owning_record types t = owns_among (record_components types t)

-- Is a declared component of an access type?
abbrev pub is_owning_part : PartKind → Bool
is_owning_part (part.Elementary kind) = is_owning kind
is_owning_part (part.Record t) = false
is_owning_part part.Parent = false

-- Has a record type no Adjust of its own (7.6)?
abbrev pub leaves_copies : Option Finalization → Bool
leaves_copies None = true
leaves_copies (Some f) = is_inherited f.operations.adjust

-- Is a component of an access type declared in a record type that has no Adjust of its own? A copy of one of its objects names what that names.
abbrev pub leaves_own : Option TypeForm → Bool
leaves_own None = false
leaves_own (Some (record_of name parts components finalization)) = list_any (λ c. is_owning_part c.kind) parts && leaves_copies finalization
leaves_own (Some (access_to name designated pool)) = false
leaves_own (Some (object_of record_type)) = false

-- Is a component of an access type, or a record that has one?
abbrev pub owns_within : List TypeForm → PartKind → Bool
owns_within types (part.Elementary kind) = is_owning kind
owns_within types (part.Record t) = is_owning_record types t.0
owns_within types part.Parent = false

-- Is such a component declared in a record type?
abbrev pub declares_owner : List TypeForm → Option TypeForm → Bool
declares_owner types None = false
declares_owner types (Some (record_of name parts components finalization)) = list_any (λ c. owns_within types c.kind) parts
declares_owner types (Some (access_to name designated pool)) = false
declares_owner types (Some (object_of record_type)) = false

-- Would a copy of an object of a record type, which has components of access types, leave two owners? It does not where each of them is declared in a type
-- with an Adjust of its own, and none is looked for more than so many records deep.
abbrev pub leaves_within : List TypeForm → (depth record_type : ℕ) → Bool
leaves_within types zero t = is_owning_record types t
leaves_within types (suc n) t =
    is_owning_record types t
    && (leaves_own (slice_get types t) || (not (declares_owner types (slice_get types t)) || has_component_among (leaves_within types n) (slice_get types t)))

-- Would it at any depth? Records are nested no deeper than there are types.
abbrev pub leaves_owners : List TypeForm → (record_type : ℕ) → Bool
leaves_owners types t = leaves_within types (length types) t

-- Is what a record of a type gets an aggregate that names owners (4.3.1)? A record that is copied alone is none.
abbrev pub gathers_owners : List TypeForm → (record_type : ℕ) → List ItemForm → Bool
gathers_owners types t (item_of_record p ∷ []) = not (p.record_type == t) && is_owning_record types t
gathers_owners types t items = is_owning_record types t

-- The paths in an item of an aggregate, behind items that name these paths; a record is copied to what stands at the spot.
abbrev pub uses_in_item : List TypeForm → (spot : Spot) → (target : Option PathForm) → (earlier : List PathForm) → ItemForm → List Use
uses_in_item types spot target earlier null_item = []
uses_in_item types spot target earlier (item_of_path path) = item_move target earlier path ∷ []
uses_in_item types spot target earlier (item_of_value e) = uses_in e
uses_in_item types spot target earlier (item_of_record p) = copies_to (leaves_owners types p.record_type) spot ∷ shares_it p ∷ reaches_it p.object ∷ []

-- The path that an item moves, if it moves one.
abbrev pub named_by_item : ItemForm → List PathForm
named_by_item null_item = []
named_by_item (item_of_path path) = path ∷ []
named_by_item (item_of_value e) = []
named_by_item (item_of_record p) = []

-- The paths in items, in the order of the components.
abbrev pub uses_in_items : List TypeForm → (spot : Spot) → (target : Option PathForm) → (earlier : List PathForm) → List ItemForm → List Use
uses_in_items types spot target earlier [] = []
uses_in_items types spot target earlier (i ∷ is) =
    uses_in_item types spot target earlier i ++ uses_in_items types spot target (named_by_item i ++ earlier) is

-- How an assignment uses the path whose value it assigns (5.2): it lends the value to a borrower, and else moves it.
abbrev pub value_use : (borrows cleared : Bool) → PathForm → Use
value_use borrows cleared path = if borrows then borrows_it path else moves_it cleared path

-- The paths in what is assigned to what stands at the spot, to a borrower or not, and to a component or not, where the next statement clears what is
-- moved, or does not.
abbrev pub uses_in_right : List TypeForm → (spot : Spot) → (borrows cleared : Bool) → (target : Option PathForm) → RightForm → List Use
uses_in_right types spot borrows cleared target nothing = []
uses_in_right types spot borrows cleared target (value_of path) = value_use borrows cleared path ∷ []
uses_in_right types spot borrows cleared target (allocates access items) = uses_in_items types spot target [] items
uses_in_right types spot borrows cleared target (allocates_default access) = []
uses_in_right types spot borrows cleared target (computes e) = uses_in e

-- The paths in the items that a record gets that stands at the spot (4.3.1, 5.2).
abbrev pub uses_in_record : List TypeForm → (spot : Spot) → (record_type : ℕ) → List ItemForm → List Use
uses_in_record types spot t items = copies_to (gathers_owners types t items) spot ∷ uses_in_items types spot None [] items

-- The path of a target is followed up to the object in which its component lies (5.2); a variable is not.
abbrev pub uses_in_target : PathForm → List Use
uses_in_target path = reads_it path ∷ []

-- A spot stands before another in the text.
abbrev pub is_left_of : Spot → Spot → Bool
is_left_of a b = nat_lt a.line b.line || ((a.line == b.line) && nat_lt a.column b.column)

-- A rule that is broken, and where.
abbrev pub Breach : Type 0
Breach = Spot × Rule

-- The leftmost of two breaches, where they are there.
abbrev pub leftmost : Option Breach → Option Breach → Option Breach
leftmost None b = b
leftmost (Some a) None = Some a
leftmost (Some a) (Some b) = if is_left_of b.0 a.0 then Some b else Some a

-- What is lost is neither followed nor compared (4.1).
abbrev pub lost_by : Hold → Spot → Option Breach
lost_by Null spot = None
lost_by (Kept r) spot = None
lost_by (Own r) spot = None
lost_by (Alias r) spot = None
lost_by Lost spot = Some (spot, LostValue)

-- Where a path follows the value of its variable, that is not lost; components own what they hold, and are never lost.
abbrev pub lost_behind : List ℕ → Hold → Spot → Option Breach
lost_behind [] hold spot = None
lost_behind (c ∷ cs) hold spot = lost_by hold spot

-- A value that is moved out of a variable is neither lost nor an alias.
abbrev pub moved_by : Hold → Spot → Option Breach
moved_by Null spot = None
moved_by (Kept r) spot = None
moved_by (Own r) spot = None
moved_by (Alias r) spot = Some (spot, AliasMoved)
moved_by Lost spot = Some (spot, LostValue)

-- A value that is moved out of a component is not found behind a lost one, and the component is overwritten.
abbrev pub taken_by : (overwritten : Bool) → Hold → Spot → Option Breach
taken_by true hold spot = lost_by hold spot
taken_by false Null spot = Some (spot, TakePair)
taken_by false (Kept r) spot = Some (spot, TakePair)
taken_by false (Own r) spot = Some (spot, TakePair)
taken_by false (Alias r) spot = Some (spot, TakePair)
taken_by false Lost spot = Some (spot, LostValue)

-- What is wrong with a value that is moved, if anything is.
abbrev pub moved_behind : (overwritten : Bool) → List ℕ → Hold → Spot → Option Breach
moved_behind overwritten [] hold spot = moved_by hold spot
moved_behind overwritten (c ∷ cs) hold spot = taken_by overwritten hold spot

-- A tracked component whose value is moved is neither lost nor an alias (7.6), and it is overwritten.
abbrev pub tracked_by : (overwritten : Bool) → Hold → Spot → Option Breach
tracked_by true hold spot = moved_by hold spot
tracked_by false Null spot = Some (spot, TakePair)
tracked_by false (Kept r) spot = Some (spot, TakePair)
tracked_by false (Own r) spot = Some (spot, TakePair)
tracked_by false (Alias r) spot = Some (spot, AliasMoved)
tracked_by false Lost spot = Some (spot, LostValue)

-- So it is of a path that is a tracked component, or is none.
abbrev pub moved_from : (tracked overwritten : Bool) → List ℕ → Hold → Spot → Option Breach
moved_from false overwritten selectors hold spot = moved_behind overwritten selectors hold spot
moved_from true overwritten selectors hold spot = tracked_by overwritten hold spot

-- An actual parameter begins with a variable with which another one before it begins, and one of them is for a formal parameter of mode `in out`; or what
-- its path follows may be freed by the call.
abbrev pub given_by_both : (again : Bool) → Spot → Option Breach
given_by_both false spot = None
given_by_both true spot = Some (spot, UnsafePath)

-- A value that is lent to a formal parameter of mode `in` (6.4.1) is not lost.
abbrev pub lent_by : (again : Bool) → Hold → Spot → Option Breach
lent_by again Null spot = given_by_both again spot
lent_by again (Kept r) spot = given_by_both again spot
lent_by again (Own r) spot = given_by_both again spot
lent_by again (Alias r) spot = given_by_both again spot
lent_by again Lost spot = Some (spot, LostValue)

-- A variable that is given for a formal parameter of mode `in out` of an access type (6.4.1) hands over what it owns: it is neither lost nor an alias.
abbrev pub handed_by : (again : Bool) → Hold → Spot → Option Breach
handed_by again Null spot = given_by_both again spot
handed_by again (Kept r) spot = given_by_both again spot
handed_by again (Own r) spot = given_by_both again spot
handed_by again (Alias r) spot = Some (spot, AliasMoved)
handed_by again Lost spot = Some (spot, LostValue)

-- What is passed by reference for as long as a call lasts, or gets something back behind it, is not found behind what is lost, and is safe (6.2, 6.4.1).
abbrev pub passed_by : (unsafe : Bool) → Hold → Spot → Option Breach
passed_by unsafe Null spot = given_by_both unsafe spot
passed_by unsafe (Kept r) spot = given_by_both unsafe spot
passed_by unsafe (Own r) spot = given_by_both unsafe spot
passed_by unsafe (Alias r) spot = given_by_both unsafe spot
passed_by unsafe Lost spot = Some (spot, LostValue)

-- A component that owns what it names is not handed over: it is moved by take pairs alone.
abbrev pub opened_by_call : (owning unsafe : Bool) → Hold → Spot → Option Breach
opened_by_call true unsafe hold spot = taken_by false hold spot
opened_by_call false unsafe hold spot = passed_by unsafe hold spot

-- Nor is a tracked component.
abbrev pub opened_from : (tracked owning unsafe : Bool) → Hold → Spot → Option Breach
opened_from false owning unsafe hold spot = opened_by_call owning unsafe hold spot
opened_from true owning unsafe hold spot = tracked_by false hold spot

-- What a formal parameter may hold that is to give something back: null, or what it owns.
abbrev pub gives_back : Hold → Bool
gives_back Null = true
gives_back (Kept r) = true
gives_back (Own r) = true
gives_back (Alias r) = false
gives_back Lost = false

-- So does each of these.
abbrev pub all_give_back : List ℕ → Holds → Bool
all_give_back [] holds = true
all_give_back (x ∷ xs) holds = gives_back (hold_at holds x) && all_give_back xs holds

-- The formal parameter as a whole is neither copied nor passed while one of its tracked components has no owner in it (7.6).
abbrev pub shared_by : (all_owned whole : Bool) → Spot → Option Breach
shared_by true whole spot = None
shared_by false false spot = None
shared_by false true spot = Some (spot, AliasMoved)

-- A record is copied as a whole only if that leaves no two owners of what a component names.
abbrev pub copied_to : (owning : Bool) → Spot → Option Breach
copied_to false spot = None
copied_to true spot = Some (spot, RecordCopied)

-- What is held where a path begins, as it is judged.
abbrev pub hold_seen : Tracks → Holds → PathForm → Hold
hold_seen tracks holds path = hold_at holds (seen tracks path).root

-- The rule that a use of a path breaks, if it breaks one: of two items that move one path, the second moves what is lost; and no variable is given for
-- two formal parameters that give a value back.
abbrev pub broken_in : Tracks → Holds → Use → Option Breach
broken_in tracks holds (reads_it path) = lost_behind (seen tracks path).selectors (hold_seen tracks holds path) path.spot
broken_in tracks holds (compares_it path) = lost_by (hold_seen tracks holds path) path.spot
broken_in tracks holds (borrows_it path) = lost_by (hold_seen tracks holds path) path.spot
broken_in tracks holds (moves_it overwritten path) =
    moved_from (is_tracked tracks path) overwritten (seen tracks path).selectors (hold_seen tracks holds path) path.spot
broken_in tracks holds (moves_again path) = Some (path.spot, LostValue)
broken_in tracks holds (gives_again path) = Some (path.spot, UnsafePath)
broken_in tracks holds (lends_it again path) = lent_by again (hold_seen tracks holds path) path.spot
broken_in tracks holds (hands_it again path) = handed_by again (hold_seen tracks holds path) path.spot
broken_in tracks holds (opens_it owning unsafe path) = opened_from (is_tracked tracks path) owning unsafe (hold_seen tracks holds path) path.spot
broken_in tracks holds (passes_it unsafe path) = passed_by unsafe (hold_seen tracks holds path) path.spot
broken_in tracks holds (reaches_it path) = lost_by (hold_seen tracks holds path) path.spot
broken_in tracks holds (shares_it p) = shared_by (all_give_back (tracked_numbers tracks) holds) (is_whole_formal p) p.object.spot
broken_in tracks holds (copies_to owning spot) = copied_to owning spot

-- The leftmost of the rules that paths break.
abbrev pub broken_among : Tracks → Holds → List Use → Option Breach
broken_among tracks holds [] = None
broken_among tracks holds (u ∷ us) = leftmost (broken_in tracks holds u) (broken_among tracks holds us)

-- Where a rule is broken, that is the fault; else this comes.
abbrev pub unless_broken : Option Breach → Outcome → Outcome
unless_broken None more = more
unless_broken (Some breach) more = faults breach.0 breach.1

-- After paths are used.
abbrev pub using_paths : Tracks → List Use → Holds → Outcome → Outcome
using_paths tracks uses holds more = unless_broken (broken_among tracks holds uses) more

-- After an expression is evaluated, which changes nothing (4.4).
abbrev pub computed : Tracks → ExpressionForm → Holds → Outcome
computed tracks e holds = using_paths tracks (uses_in e) holds (ends_with (expression_raises e) holds holds)

-- Assignments and initial values (3.3.1, 5.2).

-- A hold, if it stays.
abbrev pub if_own : Bool → Hold → Hold
if_own true hold = hold
if_own false hold = Lost

-- The access type of a variable (3.10): none, if it is an Integer or a Boolean.
abbrev pub variable_access : List VariableForm → ℕ → Option ℕ
variable_access variables x = access_of (variable_kind variables x)

-- What is left of a hold once its value was moved: an owner owns nothing any more.
abbrev pub left_by_move : Hold → Hold
left_by_move Null = Null
left_by_move (Kept r) = Lost
left_by_move (Own r) = Lost
left_by_move (Alias r) = Alias r
left_by_move Lost = Lost

-- A variable whose value was moved.
abbrev pub without_value : ℕ → Holds → Holds
without_value x holds = slice_set holds x (left_by_move (hold_at holds x))

-- Variables whose values were moved.
abbrev pub without_values : List ℕ → Holds → Holds
without_values [] holds = holds
without_values (x ∷ xs) holds = without_values xs (without_value x holds)

-- The variables that items move.
abbrev pub moved_by_items : Tracks → List ItemForm → List ℕ
moved_by_items tracks [] = []
moved_by_items tracks (i ∷ is) = moved_by_item tracks i ++ moved_by_items tracks is

-- The variable that the value of a path is moved out of, if it is: what is lent to a borrower stays where it is.
abbrev pub moved_by_value : Tracks → (borrows : Bool) → PathForm → List ℕ
moved_by_value tracks borrows path = if borrows then [] else variable_of (seen tracks path).selectors (seen tracks path).root

-- The variables that an assignment moves (5.2), to a borrower or not; items move theirs once the object is there (4.8).
abbrev pub moved_by_right : Tracks → (borrows : Bool) → RightForm → List ℕ
moved_by_right tracks borrows nothing = []
moved_by_right tracks borrows (value_of path) = moved_by_value tracks borrows path
moved_by_right tracks borrows (allocates access items) = moved_by_items tracks items
moved_by_right tracks borrows (allocates_default access) = []
moved_by_right tracks borrows (computes e) = []

-- What is said of a formal parameter once its value is moved, freed or overwritten: it no longer holds what its call gave it. Of others nothing changes.
abbrev pub touched_hold : Hold → Hold
touched_hold Null = Null
touched_hold (Kept r) = Own r
touched_hold (Own r) = Own r
touched_hold (Alias r) = Alias r
touched_hold Lost = Lost

-- What the value of a path is relied on for: a variable's own hold; a component owns its value, which is null where the variable is.
abbrev pub value_hold : List ℕ → Hold → Hold
value_hold [] hold = touched_hold hold
value_hold (c ∷ cs) Null = Null
value_hold (c ∷ cs) (Kept r) = Own r
value_hold (c ∷ cs) (Own r) = Own r
value_hold (c ∷ cs) (Alias r) = Own r
value_hold (c ∷ cs) Lost = Lost

-- What a borrower holds with the value of a path, by what the path's variable holds: the object has an owner, or null is behind null.
abbrev pub borrowed_hold : Hold → Hold
borrowed_hold Null = Null
borrowed_hold (Kept r) = Alias r
borrowed_hold (Own r) = Alias r
borrowed_hold (Alias r) = Alias r
borrowed_hold Lost = Lost

-- What a variable holds with the value of a path: a borrower an alias, any other what the path's value was relied on for.
abbrev pub given_hold : (borrows : Bool) → List ℕ → Hold → Hold
given_hold borrows selectors hold = if borrows then borrowed_hold hold else value_hold selectors hold

-- What a variable holds with what is assigned: an Integer or a Boolean is not relied on.
abbrev pub right_hold : Tracks → (borrows : Bool) → RightForm → Holds → Hold
right_hold tracks borrows nothing holds = Null
right_hold tracks borrows (value_of path) holds = given_hold borrows (seen tracks path).selectors (hold_seen tracks holds path)
right_hold tracks borrows (allocates access items) holds = Own Whole
right_hold tracks borrows (allocates_default access) holds = Own Whole
right_hold tracks borrows (computes e) holds = Lost

-- Whether an assignment may raise an exception where it evaluates what is assigned: there may be no storage.
abbrev pub evaluation_raises : RightForm → Bool
evaluation_raises nothing = false
evaluation_raises (value_of path) = path_raises path
evaluation_raises (allocates access items) = true
evaluation_raises (allocates_default access) = true
evaluation_raises (computes e) = expression_raises e

-- After a variable that stands at the spot, a borrower or not, or a tracked component, which is a target of its own, gets a value (3.3.1, 5.2): what was
-- moved goes there.
abbrev pub gives_value : List TypeForm → Tracks → (spot : Spot) → (borrows cleared : Bool) → (target : Option PathForm) → (x : ℕ) → RightForm → Holds → Outcome
gives_value types tracks spot borrows cleared target x right holds =
    using_paths tracks (uses_in_right types spot borrows cleared target right) holds
    (ends_with (evaluation_raises right) holds
    (slice_set (without_values (moved_by_right tracks borrows right) holds) x (right_hold tracks borrows right holds)))

-- After a variable gets a value: it is a borrower, or not.
abbrev pub gives : List TypeForm → List VariableForm → Tracks → (spot : Spot) → (cleared : Bool) → (x : ℕ) → RightForm → Holds → Outcome
gives types variables tracks spot cleared x right holds = gives_value types tracks spot (is_borrower variables x) cleared None x right holds

-- After a component gets a value (5.2), whose object is found first: it owns what it gets, and no variable changes but those that are moved.
abbrev pub gives_component : List TypeForm → Tracks → (cleared : Bool) → PathForm → RightForm → Holds → Outcome
gives_component types tracks cleared path right holds =
    using_paths tracks (uses_in_target path ++ uses_in_right types path.spot false cleared (Some path) right) holds
    (ends_with (path_raises path || evaluation_raises right) holds (without_values (moved_by_right tracks false right) holds))

-- Statements (5.1).

-- What is left of a hold, if an object may be gone that an alias names.
abbrev pub without_alias : Bool → Hold → Hold
without_alias false hold = hold
without_alias true Null = Null
without_alias true (Kept r) = Kept r
without_alias true (Own r) = Own r
without_alias true (Alias r) = Lost
without_alias true Lost = Lost

-- What is left where an object of an access type may be gone: every alias of the type is lost.
abbrev pub without_aliases : List VariableForm → (access : ℕ) → Holds → Holds
without_aliases [] t holds = []
without_aliases (v ∷ vs) t [] = []
without_aliases (v ∷ vs) t (h ∷ hs) = without_alias (is_this t (access_of (Some v.kind))) h ∷ without_aliases vs t hs

-- What is left behind the end of an object of an access type, where there is such a type.
abbrev pub behind_end : List VariableForm → Option ℕ → Holds → Holds
behind_end variables None holds = holds
behind_end variables (Some t) holds = without_aliases variables t holds

-- What is left behind Free (X): X holds null, and whoever borrowed an object of its type may have borrowed this one.
abbrev pub freed : List VariableForm → (x : ℕ) → Holds → Holds
freed variables x holds = slice_set (behind_end variables (variable_access variables x) holds) x Null

-- After Free (X) (13.11.2), by what X holds: only an owner frees.
abbrev pub released : List VariableForm → (x : ℕ) → Spot → Holds → Hold → Outcome
released variables x spot holds Null = ends_with false holds (freed variables x holds)
released variables x spot holds (Kept r) = ends_with false holds (freed variables x holds)
released variables x spot holds (Own r) = ends_with false holds (freed variables x holds)
released variables x spot holds (Alias r) = faults spot AliasMoved
released variables x spot holds Lost = faults spot LostValue

-- A target as it is judged: a variable or a tracked component, or another component.
abbrev pub gives_seen : List TypeForm → List VariableForm → Tracks → (tracked cleared : Bool) → (selectors : List ℕ) → PathForm → RightForm → Holds → Outcome
gives_seen types variables tracks true cleared selectors path right holds =
    gives_value types tracks path.spot false cleared (Some path) (seen tracks path).root right holds
gives_seen types variables tracks false cleared [] path right holds = gives types variables tracks path.spot cleared path.root right holds
gives_seen types variables tracks false cleared (c ∷ cs) path right holds = gives_component types tracks cleared path right holds

-- A target: a variable, or a component.
abbrev pub gives_path : List TypeForm → List VariableForm → Tracks → (cleared : Bool) → PathForm → RightForm → Holds → Outcome
gives_path types variables tracks cleared path right holds =
    gives_seen types variables tracks (is_tracked tracks path) cleared path.selectors path right holds

-- A take pair (5.2): `T := P.C;` and `P.C := null;`, one behind the other, move a value out of a component.

-- The target of a take pair changes nothing that the path follows: it is another variable than the path's, or a component, where the path
-- follows the value of its variable alone.
abbrev pub leaves_path : (target selectors : List ℕ) → Bool → Bool
leaves_path [] cs other = other
leaves_path (d ∷ ds) (c ∷ []) other = true
leaves_path (d ∷ ds) cs other = false

-- Does this statement set a path to null?
abbrev pub clears : PathForm → StmtsForm → Bool
clears path (a_stmt (assigns target nothing) fs) = same_path target path
clears path fs = false

-- Is a statement the first one of a take pair, if these come behind it?
abbrev pub begins_pair : StmtForm → StmtsForm → Bool
begins_pair (assigns target (value_of path)) fs =
    leaves_path target.selectors path.selectors (not (target.root == path.root)) && clears path fs
begins_pair f fs = false

-- The next number of the input goes to a variable, or to a component (Run_Input.Get); there may be none.
abbrev pub gets_path : Tracks → List ℕ → PathForm → Holds → Outcome
gets_path tracks [] path holds = ends_with true holds (slice_set holds path.root Lost)
gets_path tracks (c ∷ cs) path holds = using_paths tracks (uses_in_target path) holds (ends_with true holds holds)

-- A path passes an access type, where it follows a value of it: that of its variable, or one behind that (4.1).
abbrev pub passes_type : List TypeForm → Option VariableKind → (selectors : List ℕ) → (access : ℕ) → Bool
passes_type types kind [] t = false
passes_type types kind (c ∷ cs) t = is_this t (access_of kind) || passes_type types (selected_kind types kind c) cs t

-- A component's path passes the component's own access type, if it has one: what is freed may be an object that the path follows.
abbrev pub passes_own : List TypeForm → List VariableForm → PathForm → Option ℕ → Bool
passes_own types variables path None = false
passes_own types variables path (Some t) = passes_type types (variable_kind variables path.root) path.selectors t

-- Calls (6.4).

-- Is a type one of which an object may be freed, if there is one?
abbrev pub is_freed : (may : ℕ → Bool) → Option ℕ → Bool
is_freed may None = false
is_freed may (Some t) = may t

-- What is left where objects of some access types may be gone: every alias of these types is lost.
abbrev pub without_freed : List VariableForm → (may : ℕ → Bool) → Holds → Holds
without_freed [] may holds = []
without_freed (v ∷ vs) may [] = []
without_freed (v ∷ vs) may (h ∷ hs) = without_alias (is_freed may (access_of (Some v.kind))) h ∷ without_freed vs may hs

-- What is left behind a call, or where it raises an exception, of what is not handed over: the procedure has no part in the variables, but whoever
-- borrowed an object of a type that it frees may have borrowed one of those that are gone.
abbrev pub left_by_call : List VariableForm → Option Effect → Holds → Holds
left_by_call variables None holds = holds
left_by_call variables (Some effect) holds = without_freed variables effect.frees holds

-- Does an actual parameter for a formal one of mode `in out` begin with a variable (6.4.1)?
abbrev pub is_given : List ActualForm → (variable : ℕ) → Bool
is_given [] x = false
is_given (in_value e ∷ rest) x = is_given rest x
is_given (in_null ∷ rest) x = is_given rest x
is_given (in_access path ∷ rest) x = is_given rest x
is_given (in_record p ∷ rest) x = is_given rest x
is_given (in_out_path path ∷ rest) x = (x == path.root) || is_given rest x
is_given (in_out_access path ∷ rest) x = (x == path.root) || is_given rest x
is_given (in_out_component path ∷ rest) x = (x == path.root) || is_given rest x
is_given (in_out_record p ∷ rest) x = (x == p.object.root) || is_given rest x

-- Does one of these actual parameters begin with a variable? The operands of an expression for a formal parameter of mode `in` don't count.
abbrev pub is_begun_with : List ActualForm → (variable : ℕ) → Bool
is_begun_with [] x = false
is_begun_with (in_value e ∷ rest) x = is_begun_with rest x
is_begun_with (in_null ∷ rest) x = is_begun_with rest x
is_begun_with (in_access path ∷ rest) x = (x == path.root) || is_begun_with rest x
is_begun_with (in_record p ∷ rest) x = (x == p.object.root) || is_begun_with rest x
is_begun_with (in_out_path path ∷ rest) x = (x == path.root) || is_begun_with rest x
is_begun_with (in_out_access path ∷ rest) x = (x == path.root) || is_begun_with rest x
is_begun_with (in_out_component path ∷ rest) x = (x == path.root) || is_begun_with rest x
is_begun_with (in_out_record p ∷ rest) x = (x == p.object.root) || is_begun_with rest x

-- How the path to an Integer or a Boolean is used that is given for a formal parameter of mode `in out`, behind other actual parameters.
abbrev pub given_use : (earlier : List ActualForm) → PathForm → Use
given_use earlier path = if is_begun_with earlier path.root then gives_again path else reads_it path

-- Does a path follow a value of an access type of which objects may be freed: that of its variable, or one behind that (4.1)?
abbrev pub passes_freed : List TypeForm → (may : ℕ → Bool) → Option VariableKind → (selectors : List ℕ) → Bool
passes_freed types may kind [] = false
passes_freed types may kind (c ∷ cs) = is_freed may (access_of kind) || passes_freed types may (selected_kind types kind c) cs

-- So does the path to a component, whose values of these types are followed up to its last name.
abbrev pub component_passes : List TypeForm → List VariableForm → (may : ℕ → Bool) → PathForm → Bool
component_passes types variables may path = passes_freed types may (variable_kind variables path.root) path.selectors

-- So does the path to a record, which follows the access value to the object in which the record lies, too.
abbrev pub record_passes : List TypeForm → List VariableForm → (may : ℕ → Bool) → RecordPathForm → Bool
record_passes types variables may p =
    component_passes types variables may p.object || is_freed may (path_access types variables p.object)

-- Operations of controlled types (7.6).

-- What is left where objects of some access types may be gone, on a way that may not be gone.
abbrev pub without_freed_option : List VariableForm → (may : ℕ → Bool) → Option Holds → Option Holds
without_freed_option variables may None = None
without_freed_option variables may (Some holds) = Some (without_freed variables may holds)

-- A form in the midst of which operations may free objects of some access types: behind it, and where it raises an exception, every alias of these types is
-- lost.
abbrev pub loses : List VariableForm → (may : ℕ → Bool) → Outcome → Outcome
loses variables may (faults spot rule) = faults spot rule
loses variables may (goes normal raising) = goes (without_freed_option variables may normal) (without_freed_option variables may raising)

-- A new object without items is initialized (4.8).
abbrev pub initializes : List VariableForm → Implicit → RightForm → Outcome → Outcome
initializes variables implicit nothing outcome = outcome
initializes variables implicit (value_of path) outcome = outcome
initializes variables implicit (allocates access items) outcome = outcome
initializes variables implicit (allocates_default access) outcome = loses variables (implicit.start_frees access) outcome
initializes variables implicit (computes e) outcome = outcome

-- The component that gets a new object is found before: so the path to it follows no value of an access type of which the initialization may free objects. A
-- variable as a target follows none.
abbrev pub waits_for : List TypeForm → List VariableForm → (may : ℕ → Bool) → List ℕ → PathForm → List Use
waits_for types variables may [] path = []
waits_for types variables may (c ∷ cs) path = passes_it (component_passes types variables may path) path ∷ []

-- How a target is used while what is assigned to it is initialized: a tracked component as a variable.
abbrev pub uses_in_start : List TypeForm → List VariableForm → Tracks → Implicit → PathForm → RightForm → List Use
uses_in_start types variables tracks implicit target nothing = []
uses_in_start types variables tracks implicit target (value_of path) = []
uses_in_start types variables tracks implicit target (allocates access items) = []
uses_in_start types variables tracks implicit target (allocates_default access) =
    waits_for types variables (implicit.start_frees access) (seen tracks target).selectors target
uses_in_start types variables tracks implicit target (computes e) = []

-- What a record is copied from is found before the target is finalized and adjusted, and needed until then.
abbrev pub uses_in_copy : List TypeForm → List VariableForm → (may : ℕ → Bool) → List ItemForm → List Use
uses_in_copy types variables may (item_of_record p ∷ []) = passes_it (record_passes types variables may p) p.object ∷ []
uses_in_copy types variables may items = []

-- The paths that an assignment to a record uses, in whose midst its operations may free objects of some access types: neither the path to its target nor that
-- to what is copied follows a value of one of these.
abbrev pub uses_in_assignment : List TypeForm → List VariableForm → (may : ℕ → Bool) → RecordPathForm → List ItemForm → List Use
uses_in_assignment types variables may target items =
    passes_it (record_passes types variables may target) target.object
    ∷ (uses_in_record types target.object.spot target.record_type items ++ uses_in_copy types variables may items)

-- After a record gets the values of items (5.2), whose object is found first: no variable changes but those whose aliases are lost.
abbrev pub gives_record : List TypeForm → List VariableForm → Tracks → (may : ℕ → Bool) → RecordPathForm → List ItemForm → Holds → Outcome
gives_record types variables tracks may target items holds =
    loses variables may
    (using_paths tracks (uses_in_assignment types variables may target items) holds
    (ends_with (record_path_raises target || items_raise items) holds holds))

-- An object of an access type ends, if there is such a type, and is finalized before (7.6.1, 13.11.2).
abbrev pub finalizes : List VariableForm → Implicit → Option ℕ → Outcome → Outcome
finalizes variables implicit None outcome = outcome
finalizes variables implicit (Some t) outcome = loses variables (implicit.end_frees t) outcome

-- Does a component's path follow a value of an access type that the finalization of what it names reaches?
abbrev pub passes_reached : List TypeForm → List VariableForm → Implicit → PathForm → Option ℕ → Bool
passes_reached types variables implicit path None = false
passes_reached types variables implicit path (Some t) = component_passes types variables (implicit.end_reaches t) path

-- The record type of a record object (3.3.1), by what its variable holds.
abbrev pub object_record : List TypeForm → Option VariableKind → Option ℕ
object_record types None = None
object_record types (Some variable.Integer) = None
object_record types (Some variable.Boolean) = None
object_record types (Some (variable.Access access)) = None
object_record types (Some (variable.Record object)) = object_in (slice_get types object.0)

-- Does a path that begins with a record stay inside it? Each selector behind the first one follows a value (4.1).
abbrev pub stays_inside : (selectors : List ℕ) → Bool
stays_inside [] = true
stays_inside (c ∷ []) = true
stays_inside (c ∷ d ∷ ds) = false

-- The record type of the formal parameter in which a component lies (6.2), if it lies in one: the path begins with a record that is another's, as formal
-- parameters alone are, and follows no value.
abbrev pub formal_record : List TypeForm → List VariableForm → PathForm → Hold → Option ℕ
formal_record types variables path hold =
    if is_alias hold && stays_inside path.selectors then object_record types (variable_kind variables path.root) else None

-- Does the finalization of an object of an access type reach an access type, whose objects are of this record type, or have a part of it?
abbrev pub reaches_part : List TypeForm → Implicit → (access : ℕ) → (record_type : Option ℕ) → Bool
reaches_part types implicit t None = false
reaches_part types implicit t (Some r) = designate_part types (implicit.end_reaches t) r

-- Does the finalization of what a component names reach an access type, one of whose objects may be the one in which the formal parameter lies of which it is
-- a component? Nobody knows in the body by which access value its caller came to that.
abbrev pub formal_reached : List TypeForm → List VariableForm → Implicit → PathForm → Hold → Option ℕ → Bool
formal_reached types variables implicit path hold None = false
formal_reached types variables implicit path hold (Some t) = reaches_part types implicit t (formal_record types variables path hold)

-- Is the way to a component unsafe while what it names is finalized, by what the path's variable holds? It passes the component's own access type, or one that
-- the finalization reaches, or begins at a formal parameter that lies in an object which that may reach.
abbrev pub way_reached : List TypeForm → List VariableForm → Implicit → PathForm → Hold → Option ℕ → Bool
way_reached types variables implicit path hold access =
    (passes_own types variables path access || passes_reached types variables implicit path access)
    || formal_reached types variables implicit path hold access

-- What Free (P.C) breaks, by what the path's variable holds: what is lost is not followed, and the way to the component is safe.
abbrev pub freed_behind : (unsafe : Bool) → Hold → Spot → Option Breach
freed_behind false hold spot = lost_by hold spot
freed_behind true Null spot = Some (spot, UnsafePath)
freed_behind true (Kept r) spot = Some (spot, UnsafePath)
freed_behind true (Own r) spot = Some (spot, UnsafePath)
freed_behind true (Alias r) spot = Some (spot, UnsafePath)
freed_behind true Lost spot = Some (spot, LostValue)

-- After Free (P.C) (13.11.2), for whose own access type this is: the component holds null, and whoever borrowed an object of the type may have
-- borrowed this one. So it is where a value on the path is null, and Constraint_Error is raised.
abbrev pub released_behind : List TypeForm → List VariableForm → Tracks → Implicit → PathForm → Holds → Option ℕ → Outcome
released_behind types variables tracks implicit path holds access =
    unless_broken
    (freed_behind (way_reached types variables implicit path (hold_at holds path.root) access) (hold_seen tracks holds path) path.spot)
    (ends_with (path_raises path) (behind_end variables access holds) (behind_end variables access holds))

-- After Free of a tracked component (7.6, 13.11.2): it is neither lost nor an alias, and its formal parameter lies in no object which the finalization may
-- reach; then it holds null, and aliases are lost as behind Free of a variable.
abbrev pub released_tracked : List TypeForm → List VariableForm → Tracks → Implicit → PathForm → Holds → Option ℕ → Outcome
released_tracked types variables tracks implicit path holds access =
    unless_broken
    (handed_by (formal_reached types variables implicit path (hold_at holds path.root) access) (hold_seen tracks holds path) path.spot)
    (ends_with false holds (freed variables (seen tracks path).root holds))

-- After Free of a tracked component, of a variable, or of another component.
abbrev pub frees_seen : List TypeForm → List VariableForm → Tracks → (tracked : Bool) → Implicit → List ℕ → PathForm → Holds → Outcome
frees_seen types variables tracks true implicit selectors path holds =
    released_tracked types variables tracks implicit path holds (path_access types variables path)
frees_seen types variables tracks false implicit [] path holds = released variables path.root path.spot holds (hold_at holds path.root)
frees_seen types variables tracks false implicit (c ∷ cs) path holds =
    released_behind types variables tracks implicit path holds (path_access types variables path)

-- After Free of a variable, or of a component.
abbrev pub frees_path : List TypeForm → List VariableForm → Tracks → Implicit → PathForm → Holds → Outcome
frees_path types variables tracks implicit path holds = frees_seen types variables tracks (is_tracked tracks path) implicit path.selectors path holds

-- Has a path a value of an access type?
abbrev pub names_value : Option ℕ → Bool
names_value None = false
names_value (Some t) = true

-- The paths in an actual parameter, behind others of its call, which may free objects of some access types.
abbrev pub uses_in_actual : List TypeForm → List VariableForm → (may : ℕ → Bool) → (earlier : List ActualForm) → ActualForm → List Use
uses_in_actual types variables may earlier (in_value e) = uses_in e
uses_in_actual types variables may earlier in_null = []
uses_in_actual types variables may earlier (in_access path) = lends_it (is_given earlier path.root) path ∷ []
uses_in_actual types variables may earlier (in_record p) =
    shares_it p ∷ passes_it (is_given earlier p.object.root || record_passes types variables may p) p.object ∷ []
uses_in_actual types variables may earlier (in_out_path path) = given_use earlier path ∷ []
uses_in_actual types variables may earlier (in_out_access path) = hands_it (is_begun_with earlier path.root) path ∷ []
uses_in_actual types variables may earlier (in_out_component path) =
    opens_it (names_value (path_access types variables path)) (is_begun_with earlier path.root || component_passes types variables may path) path ∷ []
uses_in_actual types variables may earlier (in_out_record p) =
    shares_it p ∷ passes_it (is_begun_with earlier p.object.root || record_passes types variables may p) p.object ∷ []

-- The paths in actual parameters, in order, behind others.
abbrev pub uses_in_actuals : List TypeForm → List VariableForm → (may : ℕ → Bool) → (earlier : List ActualForm) → List ActualForm → List Use
uses_in_actuals types variables may earlier [] = []
uses_in_actuals types variables may earlier (a ∷ rest) =
    uses_in_actual types variables may earlier a ++ uses_in_actuals types variables may (earlier ++ a ∷ []) rest

-- What is known behind a call of the variables that were handed over (6.4.1): each owns what comes back.
abbrev pub handed_back : List ActualForm → Holds → Holds
handed_back [] holds = holds
handed_back (in_value e ∷ rest) holds = handed_back rest holds
handed_back (in_null ∷ rest) holds = handed_back rest holds
handed_back (in_access path ∷ rest) holds = handed_back rest holds
handed_back (in_record p ∷ rest) holds = handed_back rest holds
handed_back (in_out_path path ∷ rest) holds = handed_back rest holds
handed_back (in_out_access path ∷ rest) holds = handed_back rest (slice_set holds path.root (Own Whole))
handed_back (in_out_component path ∷ rest) holds = handed_back rest holds
handed_back (in_out_record p ∷ rest) holds = handed_back rest holds

-- Which formal parameters a procedure keeps, by their numbers: wherever an exception leaves its body, they hold what the call handed over. None past the
-- end.
abbrev pub Keeping : Type 0
Keeping = List Bool

-- Is the first formal parameter kept?
abbrev pub first_kept : Keeping → Bool
first_kept [] = false
first_kept (b ∷ bs) = b

-- Which of the other formal parameters are kept.
abbrev pub others_kept : Keeping → Keeping
others_kept [] = []
others_kept (b ∷ bs) = bs

-- A variable that was handed over to a formal parameter, where the call raises an exception (6.4.1, 11.4): nothing comes back. It is what it was, if the
-- parameter is kept, and else the object that it owned may be gone, or have another owner.
abbrev pub unless_kept : (kept : Bool) → (variable : ℕ) → Holds → Holds
unless_kept true x holds = holds
unless_kept false x holds = without_value x holds

-- What is known of the variables that were handed over, where the call raises an exception.
abbrev pub left_unkept : Keeping → List ActualForm → Holds → Holds
left_unkept kept [] holds = holds
left_unkept kept (in_value e ∷ rest) holds = left_unkept (others_kept kept) rest holds
left_unkept kept (in_null ∷ rest) holds = left_unkept (others_kept kept) rest holds
left_unkept kept (in_access path ∷ rest) holds = left_unkept (others_kept kept) rest holds
left_unkept kept (in_record p ∷ rest) holds = left_unkept (others_kept kept) rest holds
left_unkept kept (in_out_path path ∷ rest) holds = left_unkept (others_kept kept) rest holds
left_unkept kept (in_out_access path ∷ rest) holds = left_unkept (others_kept kept) rest (unless_kept (first_kept kept) path.root holds)
left_unkept kept (in_out_component path ∷ rest) holds = left_unkept (others_kept kept) rest holds
left_unkept kept (in_out_record p ∷ rest) holds = left_unkept (others_kept kept) rest holds

-- After a call with these actual parameters of a procedure that keeps these. Where they raise an exception themselves, as little is said as where the
-- body does.
abbrev pub called : List TypeForm → List VariableForm → Tracks → Option Effect → Keeping → (actuals : List ActualForm) → Holds → Outcome
called types variables tracks effect kept actuals holds =
    using_paths tracks (uses_in_actuals types variables (call_frees effect) [] actuals) holds
    (ends_with (actuals_raise actuals || call_raises effect (λ e. true))
    (left_unkept kept actuals (left_by_call variables effect holds)) (handed_back actuals (left_by_call variables effect holds)))

-- Two ways that join behind an `if` (5.3): the first fault in text order stands.
abbrev pub either_of : Outcome → Outcome → Outcome
either_of (faults spot rule) other = faults spot rule
either_of (goes normal raising) (faults spot rule) = faults spot rule
either_of (goes normal raising) (goes other_normal other_raising) = goes (join_option normal other_normal) (join_option raising other_raising)

-- Loops (5.5).

-- What is known of a variable at least as well: null is an owner or an alias, what is kept is owned, and whatever it is may be called lost.
abbrev pub is_as_good : Hold → Hold → Bool
is_as_good Null Null = true
is_as_good Null (Kept r) = false
is_as_good Null (Own r) = true
is_as_good Null (Alias r) = true
is_as_good Null Lost = true
is_as_good (Kept r) Null = false
is_as_good (Kept Whole) (Kept Whole) = true
is_as_good (Kept Whole) (Own Whole) = true
is_as_good (Kept r) (Alias q) = false
is_as_good (Kept r) Lost = true
is_as_good (Own r) Null = false
is_as_good (Own r) (Kept q) = false
is_as_good (Own Whole) (Own Whole) = true
is_as_good (Own r) (Alias q) = false
is_as_good (Own r) Lost = true
is_as_good (Alias Whole) (Alias Whole) = true
is_as_good (Alias r) Null = false
is_as_good (Alias r) (Kept q) = false
is_as_good (Alias r) (Own q) = false
is_as_good (Alias r) Lost = true
is_as_good Lost Null = false
is_as_good Lost (Kept q) = false
is_as_good Lost (Own q) = false
is_as_good Lost (Alias q) = false
is_as_good Lost Lost = true

-- Whether what each variable holds is at least as good as what is wanted of it; one past the end is lost.
abbrev pub are_as_good : Holds → Holds → Bool
are_as_good holds [] = true
are_as_good [] (h ∷ hs) = is_as_good Lost h && are_as_good [] hs
are_as_good (g ∷ gs) (h ∷ hs) = is_as_good g h && are_as_good gs hs

-- What a variable may hold at the start of each turn of a loop whose body assigns it: a borrower an alias, any other an object of its own.
abbrev pub opened_null : (borrows : Bool) → Hold
opened_null borrows = if borrows then Alias Whole else Own Whole

-- A variable that holds null where a loop begins, and that its body assigns or hands over, may name an object at the start of each turn; and what is
-- kept may have changed.
abbrev pub opened_hold : (borrows : Bool) → Hold → Hold
opened_hold borrows Null = opened_null borrows
opened_hold borrows (Kept r) = Own r
opened_hold borrows (Own r) = Own r
opened_hold borrows (Alias r) = Alias r
opened_hold borrows Lost = Lost

-- A variable may name an object at the start of each turn, if it holds null where the loop begins.
abbrev pub opened : List VariableForm → ℕ → Holds → Holds
opened variables x holds = slice_set holds x (opened_hold (is_borrower variables x) (hold_at holds x))

-- What a loop's start holds for a target of its body: a variable is opened, a component opens none.
abbrev pub opened_target : List VariableForm → List ℕ → (root : ℕ) → Holds → Holds
opened_target variables [] x holds = opened variables x holds
opened_target variables (c ∷ cs) x holds = holds

-- What a loop's start holds for variables whose values its body moves or frees: what is kept may have changed.
abbrev pub touched : ℕ → Holds → Holds
touched x holds = slice_set holds x (touched_hold (hold_at holds x))

-- So it is for each of these variables.
abbrev pub all_touched : List ℕ → Holds → Holds
all_touched [] holds = holds
all_touched (x ∷ xs) holds = all_touched xs (touched x holds)

-- What a loop's start holds for the declarations of a block in its body (3.3.1).
abbrev pub touched_by_all : List VariableForm → Tracks → List DeclarationForm → Holds → Holds
touched_by_all variables tracks [] holds = holds
touched_by_all variables tracks (creates_pool pool ∷ ds) holds = touched_by_all variables tracks ds holds
touched_by_all variables tracks (collects access ∷ ds) holds = touched_by_all variables tracks ds holds
touched_by_all variables tracks (declares x right ∷ ds) holds = touched_by_all variables tracks ds (all_touched (moved_by_right tracks (is_borrower variables x) right) holds)
touched_by_all variables tracks (declares_record x object initial ∷ ds) holds = touched_by_all variables tracks ds holds

-- What a loop's start holds for a component that is given for a formal parameter of mode `in out` in its body: one that is tracked is opened.
abbrev pub opened_tracked : (tracked : Bool) → List VariableForm → (number : ℕ) → Holds → Holds
opened_tracked false variables x holds = holds
opened_tracked true variables x holds = opened variables x holds

-- What a loop's start holds for the actual parameters of a call in its body: each variable that is handed over is opened (6.4.1).
abbrev pub opened_by_actuals : List VariableForm → Tracks → List ActualForm → Holds → Holds
opened_by_actuals variables tracks [] holds = holds
opened_by_actuals variables tracks (in_value e ∷ rest) holds = opened_by_actuals variables tracks rest holds
opened_by_actuals variables tracks (in_null ∷ rest) holds = opened_by_actuals variables tracks rest holds
opened_by_actuals variables tracks (in_access path ∷ rest) holds = opened_by_actuals variables tracks rest holds
opened_by_actuals variables tracks (in_record p ∷ rest) holds = opened_by_actuals variables tracks rest holds
opened_by_actuals variables tracks (in_out_path path ∷ rest) holds = opened_by_actuals variables tracks rest holds
opened_by_actuals variables tracks (in_out_access path ∷ rest) holds = opened_by_actuals variables tracks rest (opened variables path.root holds)
opened_by_actuals variables tracks (in_out_component path ∷ rest) holds =
    opened_by_actuals variables tracks rest (opened_tracked (is_tracked tracks path) variables (seen tracks path).root holds)
opened_by_actuals variables tracks (in_out_record p ∷ rest) holds = opened_by_actuals variables tracks rest holds

abbrev mutual
  -- What a loop's start holds: each variable that a statement of its body assigns or hands over, wherever it stands there, is opened (5.2, 5.5, 6.4.1),
  -- and what is kept and moved or freed there may have changed.
  pub opened_by : List VariableForm → Tracks → StmtForm → Holds → Holds
  opened_by variables tracks skips holds = holds
  opened_by variables tracks (assigns target right) holds =
      opened_target variables (seen tracks target).selectors (seen tracks target).root (all_touched (moved_by_right tracks (names_borrower variables target) right) holds)
  opened_by variables tracks (assigns_record target items) holds = holds
  opened_by variables tracks (frees access path) holds = all_touched (variable_of (seen tracks path).selectors (seen tracks path).root) holds
  opened_by variables tracks (gets target) holds = holds
  opened_by variables tracks (writes e) holds = holds
  opened_by variables tracks (writes_text text) holds = holds
  opened_by variables tracks (chooses branches) holds = opened_by_branches variables tracks branches holds
  opened_by variables tracks (repeats condition fs end_spot) holds = opened_by_all variables tracks fs holds
  opened_by variables tracks (counts x low high fs end_spot) holds = opened_by_all variables tracks fs holds
  opened_by variables tracks (exits condition spot) holds = holds
  opened_by variables tracks (calls procedure actuals) holds = opened_by_actuals variables tracks actuals holds
  opened_by variables tracks (returns spot) holds = holds
  opened_by variables tracks (raises e) holds = holds
  opened_by variables tracks (encloses ds fs hs) holds =
      opened_by_handlers variables tracks hs (opened_by_all variables tracks fs (touched_by_all variables tracks ds holds))

  pub opened_by_all : List VariableForm → Tracks → StmtsForm → Holds → Holds
  opened_by_all variables tracks no_stmts holds = holds
  opened_by_all variables tracks (a_stmt f fs) holds = opened_by_all variables tracks fs (opened_by variables tracks f holds)

  pub opened_by_branches : List VariableForm → Tracks → BranchesForm → Holds → Holds
  opened_by_branches variables tracks (otherwise fs) holds = opened_by_all variables tracks fs holds
  opened_by_branches variables tracks (a_branch e fs branches) holds = opened_by_branches variables tracks branches (opened_by_all variables tracks fs holds)

  pub opened_by_handlers : List VariableForm → Tracks → HandlersForm → Holds → Holds
  opened_by_handlers variables tracks no_handlers holds = holds
  opened_by_handlers variables tracks (a_handler choices fs hs) holds = opened_by_handlers variables tracks hs (opened_by_all variables tracks fs holds)

abbrev mutual
  -- Is there an exit from the loop whose body this is (5.7)? One inside another loop leaves that one.
  pub has_exit : StmtForm → Bool
  has_exit skips = false
  has_exit (assigns target right) = false
  has_exit (assigns_record target items) = false
  has_exit (frees access path) = false
  has_exit (gets target) = false
  has_exit (writes e) = false
  has_exit (writes_text text) = false
  has_exit (chooses branches) = branches_have_exit branches
  has_exit (repeats condition fs end_spot) = false
  has_exit (counts x low high fs end_spot) = false
  has_exit (exits condition spot) = true
  has_exit (calls procedure actuals) = false
  has_exit (returns spot) = false
  has_exit (raises e) = false
  has_exit (encloses ds fs hs) = have_exit fs || handlers_have_exit hs

  pub have_exit : StmtsForm → Bool
  have_exit no_stmts = false
  have_exit (a_stmt f fs) = has_exit f || have_exit fs

  pub branches_have_exit : BranchesForm → Bool
  branches_have_exit (otherwise fs) = have_exit fs
  branches_have_exit (a_branch e fs branches) = have_exit fs || branches_have_exit branches

  pub handlers_have_exit : HandlersForm → Bool
  handlers_have_exit no_handlers = false
  handlers_have_exit (a_handler choices fs hs) = have_exit fs || handlers_have_exit hs

-- A way may lead back to a loop's start, or out of the loop, only with what is known at its start.
abbrev pub unless_worse : Holds → Holds → Spot → Outcome → Outcome
unless_worse start holds spot more = if are_as_good holds start then more else faults spot LoopState

-- The end of a loop's body.
abbrev pub ends_turn : Holds → Spot → Outcome → Outcome
ends_turn start spot (faults other rule) = faults other rule
ends_turn start spot (goes None raising) = goes None raising
ends_turn start spot (goes (Some holds) raising) = unless_worse start holds spot (goes (Some holds) raising)

-- After a loop each variable holds what it did at the start; nothing is behind a loop without a condition that no exit leaves.
abbrev pub is_left : Option ExpressionForm → StmtsForm → Bool
is_left None fs = have_exit fs
is_left (Some e) fs = true

-- What is known behind a loop that began with this: as much, if the loop can be left; else nothing is behind it.
abbrev pub left_with : Bool → Holds → Outcome → Outcome
left_with leaves start (faults spot rule) = faults spot rule
left_with leaves start (goes normal raising) = goes (if leaves then Some start else None) raising

-- The condition of a loop, where there is one.
abbrev pub condition_flow : Tracks → Option ExpressionForm → Holds → Outcome
condition_flow tracks None holds = ends_with false holds holds
condition_flow tracks (Some e) holds = computed tracks e holds

-- After a loop with this start: one turn tells what each turn does.
abbrev pub loop_flow : Tracks → Option ExpressionForm → (leaves : Bool) → Spot → (turn : Option Holds → Holds → Outcome) → (start : Holds) → Outcome
loop_flow tracks condition leaves end_spot turn start =
    left_with leaves start (then_flow (condition_flow tracks condition start) (λ hs. ends_turn start end_spot (turn (Some start) hs)))

-- Blocks (5.6).

-- What is gone behind a block, of which nothing may be relied on there: its access types, whose collections go with it, the types by which its record
-- objects are known, and its variables.
pub record Gone : Type 0 where
  pub types : List ℕ
  pub variables : List ℕ

-- The access types whose collections declarations create, and the types by which the record objects are known that they create.
abbrev pub collected : List DeclarationForm → List ℕ
collected [] = []
collected (creates_pool pool ∷ ds) = collected ds
collected (collects access ∷ ds) = access ∷ collected ds
collected (declares x right ∷ ds) = collected ds
collected (declares_record x object initial ∷ ds) = object ∷ collected ds

-- The variables that declarations create.
abbrev pub declared : List DeclarationForm → List ℕ
declared [] = []
declared (creates_pool pool ∷ ds) = declared ds
declared (collects access ∷ ds) = declared ds
declared (declares x right ∷ ds) = x ∷ declared ds
declared (declares_record x object initial ∷ ds) = x ∷ declared ds

-- What goes with a block that has these declarations.
abbrev pub gone_with : List DeclarationForm → Gone
gone_with ds = record { types = collected ds; variables = declared ds }

-- Nothing is gone.
abbrev pub nothing_gone : Gone
nothing_gone = record { types = []; variables = [] }

-- What goes with two blocks.
abbrev pub gone_with_both : Gone → Gone → Gone
gone_with_both inner outer = record { types = inner.types ++ outer.types; variables = inner.variables ++ outer.variables }

-- Is this one of them?
abbrev pub is_among : List ℕ → Option ℕ → Bool
is_among [] access = false
is_among (t ∷ ts) access = is_this t access || is_among ts access

-- Where collections and record objects are gone, a variable of one of their types is lost.
abbrev pub without_types : List VariableForm → (types : List ℕ) → Holds → Holds
without_types [] types holds = []
without_types (v ∷ vs) types [] = []
without_types (v ∷ vs) types (h ∷ hs) = if_own (not (is_among types (access_of (Some v.kind)))) h ∷ without_types vs types hs

-- Where variables are gone, they are lost.
abbrev pub without_variables : List ℕ → Holds → Holds
without_variables [] holds = holds
without_variables (x ∷ xs) holds = without_variables xs (slice_set holds x Lost)

-- What is left behind blocks.
abbrev pub left : List VariableForm → Gone → Holds → Holds
left variables gone holds = without_variables gone.variables (without_types variables gone.types holds)

-- What is known behind a block that is left on a way that may not be gone.
abbrev pub left_option : List VariableForm → Gone → Option Holds → Option Holds
left_option variables gone None = None
left_option variables gone (Some holds) = Some (left variables gone holds)

-- The outcome of a block, behind which what is its own is gone.
abbrev pub leaves_block : List VariableForm → Gone → Outcome → Outcome
leaves_block variables gone (faults spot rule) = faults spot rule
leaves_block variables gone (goes normal raising) = goes (left_option variables gone normal) (left_option variables gone raising)

-- So it is of a block whose objects are finalized as it is left (7.6.1).
abbrev pub leaves_finalized : List VariableForm → Implicit → Gone → Outcome → Outcome
leaves_finalized variables implicit gone outcome = leaves_block variables gone (loses variables (endings_free implicit gone.types) outcome)

-- Statements with their handlers (11.4): each handler begins with what is known wherever the statements may raise an exception. What no
-- handler takes is raised by the whole. Where nothing raises, no handler is examined.
abbrev pub handled : (passes : Bool) → (handlers : Holds → Outcome) → Outcome → Outcome
handled passes handlers (faults spot rule) = faults spot rule
handled passes handlers (goes normal None) = goes normal None
handled passes handlers (goes normal (Some raising)) = either_of (goes normal (raising_if passes raising)) (handlers raising)

-- Where a statement stands: what is known of the calls of procedures, and what they keep; what its body tracks; which of its formal parameters and tracked
-- components own something or are null at each normal end of it; the start of the innermost loop around the statement, if there is one; and what goes with
-- the blocks between that loop and the statement, and with the body and all blocks around the statement.
pub record Around : Type 0 where
  pub effects : Effects
  pub kept : List Keeping
  pub tracks : Tracks
  pub owed : List ℕ
  pub start : Option Holds
  pub inside : Gone
  pub within : Gone

-- Around the statements of a loop: its start, and no block since.
abbrev pub in_loop : Option Holds → Around → Around
in_loop start around = record around { start = start; inside = nothing_gone }

-- Around the statements of a block with which this goes.
abbrev pub in_block : Gone → Around → Around
in_block gone around = record around { inside = gone_with_both gone around.inside; within = gone_with_both gone around.within }

-- An exit (5.7): at a condition, what is known is known behind it, too.
abbrev pub exit_of : Tracks → Option ExpressionForm → Holds → Outcome
exit_of tracks None holds = goes None None
exit_of tracks (Some e) holds = computed tracks e holds

-- What is left behind blocks whose objects are finalized as they are left (7.6.1).
abbrev pub left_finalized : List VariableForm → Implicit → Gone → Holds → Holds
left_finalized variables implicit gone holds = left variables gone (without_freed variables (endings_free implicit gone.types) holds)

-- Inside a loop with this start it leaves blocks first, with which this goes.
abbrev pub exit_flow : List VariableForm → Tracks → Implicit → Option Holds → (inside : Gone) → Option ExpressionForm → Spot → Holds → Outcome
exit_flow variables tracks implicit None inside condition spot holds = exit_of tracks condition holds
exit_flow variables tracks implicit (Some start) inside condition spot holds =
    unless_worse start (left_finalized variables implicit inside holds) spot (exit_of tracks condition holds)

-- Where the name of a variable is declared: nowhere, if there is none.
abbrev pub spot_in : Option VariableForm → Spot
spot_in None = nowhere
spot_in (Some v) = v.spot

-- Where the name of the variable of a number is declared.
abbrev pub declared_at : List VariableForm → ℕ → Spot
declared_at variables x = spot_in (slice_get variables x)

-- Is what a record of a type gets, where there is such a type, an aggregate that names owners?
abbrev pub gathers_named : List TypeForm → (record_type : Option ℕ) → List ItemForm → Bool
gathers_named types None items = false
gathers_named types (Some r) items = gathers_owners types r items

-- Is the initial value of an object that is known by a type one?
abbrev pub gathers_at_first : List TypeForm → (object_type : ℕ) → List ItemForm → Bool
gathers_at_first types t items = gathers_named types (named_in (slice_get types t)) items

-- The paths in the initial value of a record object that stands at the spot, where there is one.
abbrev pub uses_in_initial : List TypeForm → (spot : Spot) → (object_type : ℕ) → Option (List ItemForm) → List Use
uses_in_initial types spot t None = []
uses_in_initial types spot t (Some items) = copies_to (gathers_at_first types t items) spot ∷ uses_in_items types spot None [] items

-- Declarations, in order (3.11). A record object owns itself as long as it is there; its initialization may raise an exception.
abbrev pub declaration_flow : List TypeForm → List VariableForm → Tracks → Implicit → DeclarationForm → Holds → Outcome
declaration_flow types variables tracks implicit (creates_pool pool) holds = ends_with false holds holds
declaration_flow types variables tracks implicit (collects access) holds = ends_with false holds holds
declaration_flow types variables tracks implicit (declares x right) holds =
    initializes variables implicit right (gives types variables tracks (declared_at variables x) false x right holds)
declaration_flow types variables tracks implicit (declares_record x object initial) holds =
    loses variables (λ t. initial_frees implicit t object initial)
    (using_paths tracks (uses_in_initial types (declared_at variables x) object initial) holds
    (ends_with (initial_raises initial || initial_starts implicit (λ e. true) object initial) holds (slice_set holds x (Own Whole))))

-- The flow of declarations, in order (3.11).
abbrev pub declarations_flow : List TypeForm → List VariableForm → Tracks → Implicit → List DeclarationForm → Holds → Outcome
declarations_flow types variables tracks implicit [] holds = ends_with false holds holds
declarations_flow types variables tracks implicit (d ∷ ds) holds =
    then_flow (declaration_flow types variables tracks implicit d holds) (declarations_flow types variables tracks implicit ds)

-- The bounds of a `for` loop are computed once, before it begins (5.5).
abbrev pub bounds_flow : Tracks → (low high : ExpressionForm) → Holds → Outcome
bounds_flow tracks low high holds = then_flow (computed tracks low holds) (computed tracks high)

-- Where each turn of it begins: its parameter is an Integer, on which nothing relies.
abbrev pub counting_start : List VariableForm → Tracks → (parameter : ℕ) → StmtsForm → Holds → Holds
counting_start variables tracks x fs holds = slice_set (opened_by_all variables tracks fs holds) x Lost

-- Normal ends of a body (6.4.1, 6.5).

-- A return leaves all blocks and the body (6.5), and there these formal parameters give something back.
abbrev pub return_flow : List VariableForm → (owed : List ℕ) → (within : Gone) → Spot → Holds → Outcome
return_flow variables owed within spot holds = if all_give_back owed (left variables within holds) then goes None None else faults spot FormalNotOwned

-- So they do at the end of the body.
abbrev pub ends_body : (owed : List ℕ) → Spot → Outcome → Outcome
ends_body owed end_spot (faults spot rule) = faults spot rule
ends_body owed end_spot (goes None raising) = goes None raising
ends_body owed end_spot (goes (Some holds) raising) = if all_give_back owed holds then goes (Some holds) raising else faults end_spot FormalNotOwned

-- What the procedure of a number keeps: nothing, where there is no such procedure.
abbrev pub kept_at : List Keeping → (procedure : ℕ) → Keeping
kept_at kept procedure = slice_index_or kept procedure []

abbrev mutual
  -- After a statement, which is the first one of a take pair, or is not.
  pub stmt_flow : List TypeForm → List VariableForm → Around → (cleared : Bool) → StmtForm → Holds → Outcome
  stmt_flow types variables around cleared skips holds = ends_with false holds holds
  stmt_flow types variables around cleared (assigns target right) holds =
      using_paths around.tracks (uses_in_start types variables around.tracks around.effects.implicit target right) holds
      (initializes variables around.effects.implicit right (gives_path types variables around.tracks cleared target right holds))
  stmt_flow types variables around cleared (assigns_record target items) holds =
      gives_record types variables around.tracks (λ t. assignment_frees around.effects.implicit t target.record_type) target items holds
  stmt_flow types variables around cleared (frees access path) holds =
      finalizes variables around.effects.implicit (path_access types variables path)
      (frees_path types variables around.tracks around.effects.implicit path holds)
  stmt_flow types variables around cleared (gets target) holds = gets_path around.tracks target.selectors target holds
  stmt_flow types variables around cleared (writes e) holds = computed around.tracks e holds
  stmt_flow types variables around cleared (writes_text text) holds = ends_with false holds holds
  stmt_flow types variables around cleared (chooses branches) holds = branches_flow types variables around branches holds
  stmt_flow types variables around cleared (repeats condition fs end_spot) holds =
      loop_flow around.tracks condition (is_left condition fs) end_spot (λ start hs. stmts_flow types variables (in_loop start around) fs hs) (opened_by_all variables around.tracks fs holds)
  stmt_flow types variables around cleared (counts x low high fs end_spot) holds =
      then_flow (bounds_flow around.tracks low high holds)
      (λ hs. loop_flow around.tracks None true end_spot (λ start hs. stmts_flow types variables (in_loop start around) fs hs) (counting_start variables around.tracks x fs hs))
  stmt_flow types variables around cleared (exits condition spot) holds =
      exit_flow variables around.tracks around.effects.implicit around.start around.inside condition spot holds
  stmt_flow types variables around cleared (calls procedure actuals) holds =
      called types variables around.tracks (slice_get around.effects.calls procedure) (kept_at around.kept procedure) actuals holds
  stmt_flow types variables around cleared (returns spot) holds = return_flow variables around.owed around.within spot holds
  stmt_flow types variables around cleared (raises e) holds = goes None (Some holds)
  stmt_flow types variables around cleared (encloses ds fs hs) holds =
      leaves_finalized variables around.effects.implicit (gone_with ds)
      (then_flow (declarations_flow types variables around.tracks around.effects.implicit ds holds)
      (λ at. handled (passes around.effects fs hs) (handlers_flow types variables (in_block (gone_with ds) around) hs)
      (stmts_flow types variables (in_block (gone_with ds) around) fs at)))

  -- After statements, in order.
  pub stmts_flow : List TypeForm → List VariableForm → Around → StmtsForm → Holds → Outcome
  stmts_flow types variables around no_stmts holds = ends_with false holds holds
  stmts_flow types variables around (a_stmt f fs) holds = then_flow (stmt_flow types variables around (begins_pair f fs) f holds) (stmts_flow types variables around fs)

  -- After an `if` (5.3): each branch begins behind the conditions up to its own.
  pub branches_flow : List TypeForm → List VariableForm → Around → BranchesForm → Holds → Outcome
  branches_flow types variables around (otherwise fs) holds = stmts_flow types variables around fs holds
  branches_flow types variables around (a_branch e fs branches) holds =
      then_flow (computed around.tracks e holds) (λ hs. either_of (stmts_flow types variables around fs hs) (branches_flow types variables around branches hs))

  -- After the handlers that begin with these holds (11.4): their ends join.
  pub handlers_flow : List TypeForm → List VariableForm → Around → HandlersForm → Holds → Outcome
  handlers_flow types variables around no_handlers raising = goes None None
  handlers_flow types variables around (a_handler choices fs hs) raising =
      either_of (stmts_flow types variables around fs raising) (handlers_flow types variables around hs raising)

-- Bodies, and the whole program.

-- What a formal parameter of a mode is relied on for where its body begins (6.4.1): one of an access type borrows what its call gives it, or owns it. What
-- gets an Integer or a Boolean is not relied on. A record is another's, and it is there as long as the body runs (6.2).
abbrev pub formal_hold : FormalMode → VariableKind → Hold
formal_hold In (variable.Access access) = Alias Whole
formal_hold InOut (variable.Access access) = Kept Whole
formal_hold mode variable.Integer = Lost
formal_hold mode variable.Boolean = Lost
formal_hold mode (variable.Record object) = Alias Whole

-- At first no other variable of a body is declared.
abbrev pub first_holds : List FormalMode → List VariableForm → Holds
first_holds modes [] = []
first_holds [] (v ∷ vs) = Lost ∷ first_holds [] vs
first_holds (m ∷ ms) (v ∷ vs) = formal_hold m v.kind ∷ first_holds ms vs

-- A formal parameter that gives something back at each normal end: one of mode `in out` of an access type.
abbrev pub owed_by : FormalMode → VariableKind → (formal : ℕ) → List ℕ
owed_by InOut (variable.Access access) x = x ∷ []
owed_by mode kind x = []

-- The formal parameters that do, of those from a number on.
abbrev pub owed_from : (formal : ℕ) → List FormalMode → List VariableForm → List ℕ
owed_from x [] vs = []
owed_from x (m ∷ ms) [] = []
owed_from x (m ∷ ms) (v ∷ vs) = owed_by m v.kind x ++ owed_from (x + 1) ms vs

-- Is a procedure this one, if there is one?
abbrev pub is_procedure : (procedure : ℕ) → Option ProcedureNo → Bool
is_procedure q None = false
is_procedure q (Some procedure) = procedure.0 == q

-- Does a procedure override Adjust (7.6)?
abbrev pub adjusts : (procedure : ℕ) → Option Finalization → Bool
adjusts q None = false
adjusts q (Some f) = is_procedure q f.operations.adjust

-- The components of objects of a type that its Adjust tracks, where a procedure is that: those of access types that are declared in it.
abbrev pub tracked_of : (procedure : ℕ) → Option TypeForm → List ℕ
tracked_of q None = []
tracked_of q (Some (record_of name parts components finalization)) = if adjusts q finalization then access_numbers parts else []
tracked_of q (Some (access_to name designated pool)) = []
tracked_of q (Some (object_of record_type)) = []

-- Those of a record type, where there is one.
abbrev pub tracked_by_adjust : List TypeForm → (procedure : ℕ) → (record_type : Option ℕ) → List ℕ
tracked_by_adjust types q None = []
tracked_by_adjust types q (Some r) = tracked_of q (slice_get types r)

-- What the body of a procedure tracks: the Adjust of its formal parameter's type the components of access types that are declared there.
abbrev pub tracks_of : List TypeForm → (procedure : ℕ) → BodyForm → Tracks
tracks_of types q b = tracks_behind (length b.variables) (tracked_by_adjust types q (object_record types (variable_kind b.variables 0)))

-- What a tracked component holds where its body begins: another owns the object, as an Adjust gets a copy.
abbrev pub tracked_hold : (component : ℕ) → Hold
tracked_hold c = Alias Whole

-- What the variables of a body hold where it begins, and behind them what its tracked components hold.
abbrev pub holds_at_first : Tracks → List FormalMode → List VariableForm → Holds
holds_at_first tracks modes variables = with_tracked (first_holds modes variables) (map tracked_hold tracks.components)

-- What is owned or null at each normal end of a body: formal parameters, and tracked components.
abbrev pub owed_at_ends : Tracks → List FormalMode → List VariableForm → List ℕ
owed_at_ends tracks modes variables = with_tracked (owed_from 0 modes variables) (tracked_numbers tracks)

-- Around the statements of a body: in no loop, and in no block but the body.
abbrev pub body_around : Effects → List Keeping → Tracks → BodyForm → Around
body_around effects kept tracks b = record {
  effects = effects;
  kept = kept;
  tracks = tracks;
  owed = owed_at_ends tracks b.formals b.variables;
  start = None;
  inside = nothing_gone;
  within = gone_with b.declarations;
}

-- After the declarations, the statements and the handlers of a body (6.3) that has these variables as they are judged.
abbrev pub judged_flow : List TypeForm → List VariableForm → Effects → List Keeping → Tracks → BodyForm → Outcome
judged_flow types variables effects kept tracks b =
    ends_body (owed_at_ends tracks b.formals b.variables) b.end_spot
    (leaves_block variables (gone_with b.declarations)
    (then_flow (declarations_flow types variables tracks effects.implicit b.declarations (holds_at_first tracks b.formals b.variables))
    (λ at. handled (passes effects b.statements b.handlers)
    (handlers_flow types variables (body_around effects kept tracks b) b.handlers)
    (stmts_flow types variables (body_around effects kept tracks b) b.statements at))))

-- So it is of a body that tracks these components, where this is known of the calls of procedures.
abbrev pub body_flow : List TypeForm → Effects → List Keeping → Tracks → BodyForm → Outcome
body_flow types effects kept tracks b = judged_flow types (judged types tracks b.variables) effects kept tracks b

-- Is a formal parameter kept, by what it holds where an exception leaves its body?
abbrev pub is_kept : Hold → Bool
is_kept Null = false
is_kept (Kept r) = true
is_kept (Own r) = false
is_kept (Alias r) = false
is_kept Lost = false

-- So it is where no exception leaves the body.
abbrev pub is_kept_where : (raising : Option Holds) → (formal : ℕ) → Bool
is_kept_where None x = true
is_kept_where (Some holds) x = is_kept (hold_at holds x)

-- Which of the formal parameters from a number on are kept.
abbrev pub kept_from : (raising : Option Holds) → (formal : ℕ) → List FormalMode → Keeping
kept_from raising x [] = []
kept_from raising x (m ∷ ms) = is_kept_where raising x ∷ kept_from raising (x + 1) ms

-- Which of these formal parameters a body keeps, by its outcome: where it breaks a rule, this plays no part.
abbrev pub kept_by : Outcome → List FormalMode → Keeping
kept_by (faults spot rule) ms = []
kept_by (goes normal raising) ms = kept_from raising 0 ms

-- What the body of a procedure keeps.
abbrev pub body_keeps : List TypeForm → Effects → List Keeping → Tracks → BodyForm → Keeping
body_keeps types effects kept tracks b = kept_by (body_flow types effects kept tracks b) b.formals

-- What these procedures keep, behind others: each calls those before it.
abbrev pub keeping_from : List TypeForm → Implicit → (known : List Effect) → List Keeping → List BodyForm → List Keeping
keeping_from types implicit known kept [] = kept
keeping_from types implicit known kept (b ∷ bs) =
    keeping_from types implicit (known ++ effect_of types (known_of implicit known) b ∷ [])
    (kept ++ body_keeps types (known_of implicit known) kept (tracks_of types (length known) b) b ∷ []) bs

-- What the procedures of a program keep, by their numbers, where this is known of the operations of controlled types.
abbrev pub keeping_of : Implicit → ProgramForm → List Keeping
keeping_of implicit p = keeping_from p.types implicit [] [] p.bodies

-- Each body is examined on its own: the first fault in the text is told.
abbrev pub first_fault : Outcome → Outcome → Outcome
first_fault (goes normal raising) other = other
first_fault (faults spot rule) (goes normal raising) = faults spot rule
first_fault (faults spot rule) (faults other_spot other_rule) = if is_left_of other_spot spot then faults other_spot other_rule else faults spot rule

-- After the main body, where none of these procedures breaks a rule, of which each calls those before it.
abbrev pub bodies_flow : List TypeForm → Implicit → (known : List Effect) → List Keeping → List BodyForm → (main : BodyForm) → Outcome
bodies_flow types implicit known kept [] main = body_flow types (known_of implicit known) kept no_tracks main
bodies_flow types implicit known kept (b ∷ bs) main =
    first_fault (body_flow types (known_of implicit known) kept (tracks_of types (length known) b) b)
    (bodies_flow types implicit (known ++ effect_of types (known_of implicit known) b ∷ [])
    (kept ++ body_keeps types (known_of implicit known) kept (tracks_of types (length known) b) b ∷ []) bs main)

-- The types of a program, as plain data.
abbrev pub types_of : Program → List TypeForm
types_of program = map type_form program.types.items

-- The variables of its main procedure.
abbrev pub variables_of : Program → List VariableForm
variables_of program = map variable_form program.variables.items

-- The flow through all bodies of a program, where this is known of the operations of controlled types.
abbrev pub flow_of : Implicit → ProgramForm → Outcome
flow_of implicit p = bodies_flow p.types implicit [] [] p.bodies (main_body p)

-- The same of a program as it is kept.
abbrev pub program_flow : Program → Outcome
program_flow program = flow_of (implicit_of (program_form program)) (program_form program)

-- No rule is broken.
abbrev pub ObeysRules : Program → Type 0
ObeysRules program = (normal raising : Option Holds) × (program_flow program ≡ goes normal raising)
