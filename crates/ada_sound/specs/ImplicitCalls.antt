-- What the rules say of operations of controlled types, which are called implicitly (7.6): no alias is relied on behind those that may free its object; and
-- what is found before they are called, and needed behind them, lies in no object that they may free, nor behind one.

use Rattle.std.specs.Prelude.{◌≡◌, ◌≢◌, ℕ, ◌<◌, ◌≤◌, Bool, true, false, ◌&&◌, ◌==◌, List, [], ◌∷◌, length, Option, Some, None}
use Rattle.std.specs.List.{slice_get}
use Rattle.ada_text.specs.declared.spot.Spot.{Spot}
use Rattle.ada_program.specs.declared.program.ComponentKind.TheVariants as component
use Rattle.ada_program.specs.declared.program.FormalMode.{FormalMode}
use Rattle.ada_program.specs.declared.program.PartKind.TheVariants as part
use Rattle.ada_program.specs.declared.program.TypeNo.{TypeNo}
use Rattle.ada_program.specs.declared.program.VariableKind.TheVariants as variable
use Rattle.ada_program.specs.Form.{PathForm, RecordPathForm, ExpressionForm, ItemForm, item_of_record, nothing, allocates_default, assigns, assigns_record, frees, exits, encloses, StmtsForm, no_stmts, HandlersForm, no_handlers, DeclarationForm, creates_pool, collects, declares, declares_record}
use Rattle.ada_program.specs.ProgramForm.{TypeForm, record_of, access_to, object_of, VariableForm}
use Rattle.ada_program.specs.WellFormed.{designated_type, is_record, object_in, variable_kind, path_access}
use Rattle.ada_effects.specs.Effects.{Implicit, no_implicit, initial_frees, assignment_frees, endings_free}
use Rattle.ada_flow.specs.declared.rule.Hold.TheVariants.{Null, Own, Alias, Lost}
use Rattle.ada_flow.specs.declared.rule.Region.{Region}
use Rattle.ada_flow.specs.declared.rule.Region.TheVariants.{Whole}
use Rattle.ada_flow.specs.declared.rule.Rule.TheVariants.{UnsafePath}
use Rattle.ada_flow.specs.Flow.{Holds, Outcome, faults, goes, hold_at, variable_access, nothing_gone, Around, stmt_flow, declaration_flow, first_holds}
use Rattle.ada_flow.specs.Tracking.{no_tracks}
use Rattle.ada_program.specs.Parts.{HasPart}
use Rattle.ada_sound.specs.Callees.{IsFollowed, FollowsTo}
use Rattle.ada_sound.specs.Examples.{example_spot, example_path}
use Rattle.ada_sound.specs.RecordExamples.{object_path}
use Rattle.ada_sound.specs.Untracked.{untracked}

-- No variable of an access type holds an alias (3.10).
abbrev pub HaveNoAlias : List VariableForm → (access : ℕ) → Holds → Type 0
HaveNoAlias variables t holds = (x : ℕ) → variable_access variables x ≡ Some t → (r : Region) → hold_at holds x ≢ Alias r

-- None does where this comes to its end, nor where it raises an exception.
abbrev pub LeavesNoAlias : List VariableForm → (access : ℕ) → Outcome → Type 0
LeavesNoAlias variables t outcome =
    ((after : Holds) (raising : Option Holds) → outcome ≡ goes (Some after) raising → HaveNoAlias variables t after)
    × ((raised : Holds) (normal : Option Holds) → outcome ≡ goes normal (Some raised) → HaveNoAlias variables t raised)

-- Free (P) (13.11.2): so it is for each access type of which the finalization of an object of P's own may free objects.
abbrev pub FinalizedFreeLeavesNoAlias : Type 0
FinalizedFreeLeavesNoAlias =
    (types : List TypeForm) (variables : List VariableForm) (around : Around) (cleared : Bool) (access u t : ℕ) (path : PathForm) (holds : Holds)
    → path_access types variables path ≡ Some u → around.effects.implicit.end_frees u t ≡ true
    → LeavesNoAlias variables t (stmt_flow types variables (untracked around) cleared (frees access path) holds)

-- What a declaration creates may free objects of an access type where it ends (7.6.1): a record object, or the objects of a collection.
abbrev pub MayFreeAtEnd : Implicit → DeclarationForm → (access : ℕ) → Type 0
MayFreeAtEnd implicit (creates_pool pool) t = ⊥
MayFreeAtEnd implicit (collects access) t = implicit.end_frees access t ≡ true
MayFreeAtEnd implicit (declares x right) t = ⊥
MayFreeAtEnd implicit (declares_record x object initial) t = implicit.end_frees object t ≡ true

-- A block (5.6), which ends what it declares: so it is for each access type of which one of these may free objects then.
abbrev pub EndedBlockLeavesNoAlias : Type 0
EndedBlockLeavesNoAlias =
    (types : List TypeForm) (variables : List VariableForm) (around : Around) (cleared : Bool) (i t : ℕ) (d : DeclarationForm)
    (ds : List DeclarationForm) (fs : StmtsForm) (hs : HandlersForm) (holds : Holds)
    → slice_get ds i ≡ Some d → MayFreeAtEnd around.effects.implicit d t
    → LeavesNoAlias variables t (stmt_flow types variables (untracked around) cleared (encloses ds fs hs) holds)

-- R : T; or R : T := ..; (3.3.1), a record object, which is initialized, or adjusted: so it is for each access type of which that may free objects.
abbrev pub DeclaredRecordLeavesNoAlias : Type 0
DeclaredRecordLeavesNoAlias =
    (types : List TypeForm) (variables : List VariableForm) (implicit : Implicit) (x object t : ℕ) (initial : Option (List ItemForm)) (holds : Holds)
    → initial_frees implicit t object initial ≡ true
    → LeavesNoAlias variables t (declaration_flow types variables no_tracks implicit (declares_record x object initial) holds)

-- X : T := new T'; (4.8), whose new object is initialized: so it is for each access type of which that may free objects.
abbrev pub DeclaredObjectLeavesNoAlias : Type 0
DeclaredObjectLeavesNoAlias =
    (types : List TypeForm) (variables : List VariableForm) (implicit : Implicit) (x access t : ℕ) (holds : Holds)
    → implicit.start_frees access t ≡ true
    → LeavesNoAlias variables t (declaration_flow types variables no_tracks implicit (declares x (allocates_default access)) holds)

-- At an exit (5.7) that the rules let through, which leaves blocks inside its loop: what the loop's start calls an alias of an access type of which the ends of
-- these blocks may free objects holds null there, and names none.
abbrev pub ExitsLeaveNoAlias : Type 0
ExitsLeaveNoAlias =
    (types : List TypeForm) (variables : List VariableForm) (around : Around) (cleared : Bool) (t : ℕ) (condition : Option ExpressionForm) (spot : Spot)
    (start holds : Holds) (normal raising : Option Holds)
    → around.start ≡ Some start → endings_free around.effects.implicit around.inside.types t ≡ true
    → stmt_flow types variables (untracked around) cleared (exits condition spot) holds ≡ goes normal raising
    → (x : ℕ) → variable_access variables x ≡ Some t → (r : Region) → hold_at start x ≡ Alias r → hold_at holds x ≡ Null

-- P.C := new T; (4.8): the path to the component follows no value of an access type of which the initialization may free objects. A variable as a target
-- follows none.
abbrev pub StartsSpareTheTarget : Type 0
StartsSpareTheTarget =
    (types : List TypeForm) (variables : List VariableForm) (around : Around) (cleared : Bool) (access t : ℕ) (target : PathForm) (holds : Holds)
    (normal raising : Option Holds)
    → stmt_flow types variables (untracked around) cleared (assigns target (allocates_default access)) holds ≡ goes normal raising
    → around.effects.implicit.start_frees access t ≡ true → IsFollowed types (variable_kind variables target.root) target.selectors t → ⊥

-- R := ..; (5.2), a record as a whole: so it is of the path to the target, for each access type of which the finalization and the adjustment may free objects.
abbrev pub AssignmentsSpareTheTarget : Type 0
AssignmentsSpareTheTarget =
    (types : List TypeForm) (variables : List VariableForm) (around : Around) (cleared : Bool) (t : ℕ) (target : RecordPathForm) (items : List ItemForm)
    (holds : Holds) (normal raising : Option Holds)
    → stmt_flow types variables (untracked around) cleared (assigns_record target items) holds ≡ goes normal raising
    → assignment_frees around.effects.implicit t target.record_type ≡ true → FollowsTo types variables target t → ⊥

-- R := Q; (5.2): so it is of the path to the record that is copied.
abbrev pub AssignmentsSpareTheSource : Type 0
AssignmentsSpareTheSource =
    (types : List TypeForm) (variables : List VariableForm) (around : Around) (cleared : Bool) (t : ℕ) (target source : RecordPathForm)
    (holds : Holds) (normal raising : Option Holds)
    → stmt_flow types variables (untracked around) cleared (assigns_record target (item_of_record source ∷ [])) holds ≡ goes normal raising
    → assignment_frees around.effects.implicit t target.record_type ≡ true → FollowsTo types variables source t → ⊥

-- Free (P.C) (13.11.2): the path to the component follows no value of an access type of which the finalization of the component's object may free or follow
-- objects. A variable follows none.
abbrev pub FreesSpareTheWay : Type 0
FreesSpareTheWay =
    (types : List TypeForm) (variables : List VariableForm) (around : Around) (cleared : Bool) (access u t : ℕ) (path : PathForm) (holds : Holds)
    (normal raising : Option Holds)
    → stmt_flow types variables (untracked around) cleared (frees access path) holds ≡ goes normal raising
    → path_access types variables path ≡ Some u → around.effects.implicit.end_reaches u t ≡ true
    → IsFollowed types (variable_kind variables path.root) path.selectors t → ⊥

-- A component lies in a formal parameter that is a record of this type, or of a record inside it (6.2): its path begins with a record that is another's, and
-- follows no value (4.1).
abbrev pub LiesInFormal : List TypeForm → List VariableForm → PathForm → Holds → (record_type : ℕ) → Type 0
LiesInFormal types variables path holds r =
    (object : TypeNo) × (variable_kind variables path.root ≡ Some (variable.Record object)) × (object_in (slice_get types object.0) ≡ Some r)
    × ((region : Region) × (hold_at holds path.root ≡ Alias region)) × ((c : ℕ) × (path.selectors ≡ c ∷ []))

-- Free (N.C) (13.11.2), with a formal parameter N: the finalization of the component's object frees and follows no value of an access type whose objects are of
-- N's record type, or have a part of it, however deep. So it doesn't come to the object in which N lies, whoever owns that.
abbrev pub FreesSpareTheFormal : Type 0
FreesSpareTheFormal =
    (types : List TypeForm) (variables : List VariableForm) (around : Around) (cleared : Bool) (access u t r whole : ℕ) (path : PathForm) (holds : Holds)
    (normal raising : Option Holds)
    → stmt_flow types variables (untracked around) cleared (frees access path) holds ≡ goes normal raising
    → path_access types variables path ≡ Some u → LiesInFormal types variables path holds r → is_record types r ≡ true
    → around.effects.implicit.end_reaches u t ≡ true → designated_type types t ≡ Some whole → HasPart types r whole → ⊥

-- And nothing more is asked of Free (P.C): where the path begins with nothing that is lost, follows no value of the component's own access type and none of one
-- that the finalization reaches, and where the component lies in no formal parameter to whose object that may come, it is let through.
abbrev pub SafeFreesAreLetThrough : Type 0
SafeFreesAreLetThrough =
    (types : List TypeForm) (variables : List VariableForm) (around : Around) (cleared : Bool) (access u c : ℕ) (cs : List ℕ) (path : PathForm) (holds : Holds)
    → path.selectors ≡ c ∷ cs → path_access types variables path ≡ Some u → hold_at holds path.root ≢ Lost
    → (IsFollowed types (variable_kind variables path.root) path.selectors u → ⊥)
    → ((t : ℕ) → around.effects.implicit.end_reaches u t ≡ true → IsFollowed types (variable_kind variables path.root) path.selectors t → ⊥)
    → ((r t whole : ℕ) → LiesInFormal types variables path holds r → is_record types r ≡ true → around.effects.implicit.end_reaches u t ≡ true
    → designated_type types t ≡ Some whole → HasPart types r whole → ⊥)
    → (normal raising : Option Holds) × (stmt_flow types variables (untracked around) cleared (frees access path) holds ≡ goes normal raising)

-- Where a body begins, its formal parameters that are records, and no other of its variables, are known as another's (6.2).
abbrev pub FormalsAreAnothers : Type 0
FormalsAreAnothers =
    (modes : List FormalMode) (variables : List VariableForm) (x : ℕ) (object : TypeNo)
    → variable_kind variables x ≡ Some (variable.Record object)
    → (x < length modes → hold_at (first_holds modes variables) x ≡ Alias Whole) × (length modes ≤ x → hold_at (first_holds modes variables) x ≡ Lost)

-- A record object is known as its own where it is declared (3.3.1).
abbrev pub DeclaredRecordsAreTheirOwn : Type 0
DeclaredRecordsAreTheirOwn =
    (types : List TypeForm) (variables : List VariableForm) (implicit : Implicit) (x object : ℕ) (initial : Option (List ItemForm)) (holds after : Holds)
    (raising : Option Holds)
    → x < length holds → x < length variables → declaration_flow types variables no_tracks implicit (declares_record x object initial) holds ≡ goes (Some after) raising
    → hold_at after x ≡ Own Whole

-- Examples.

-- type Node is record C : Tail; end record; type Head is access Node; type Tail is access Node; which have numbers 0, 1 and 2.
abbrev pub linked_types : List TypeForm
linked_types =
    record_of [] [] (component.Access (record { 0 = 2 }) ∷ []) None ∷ access_to [] 0 None ∷ access_to [] 0 None ∷ []

-- A variable of the access type of a number: a borrower, or not.
abbrev pub linked_variable : (access : ℕ) → (borrows : Bool) → VariableForm
linked_variable access borrows =
    record { name = []; spot = example_spot; kind = variable.Access (record { 0 = access }); borrows = borrows }

-- P : Head; Q : Tail; and B, which borrows from Tail; which have numbers 0, 1 and 2.
abbrev pub linked_variables : List VariableForm
linked_variables = linked_variable 1 false ∷ linked_variable 2 false ∷ linked_variable 2 true ∷ []

-- Where this is known of the operations of controlled types.
abbrev pub around_implicit : Implicit → Around
around_implicit implicit = record {
  effects = record { calls = []; implicit = implicit };
  kept = [];
  tracks = no_tracks;
  owed = [];
  start = None;
  inside = nothing_gone;
  within = nothing_gone;
}

-- Are two types the ones of these numbers?
abbrev pub are_both : (first second u t : ℕ) → Bool
are_both first second u t = (u == first) && (t == second)

-- The finalization of an object of Head may free one of Tail.
abbrev pub head_frees_tail : Implicit
head_frees_tail = record no_implicit { end_frees = are_both 1 2; end_reaches = are_both 1 2 }

-- Free (P); the alias in B is lost.
abbrev pub FreeLosesAnAlias : Type 0
FreeLosesAnAlias =
    stmt_flow linked_types linked_variables (around_implicit head_frees_tail) false (frees 1 (example_path 0 [])) (Own Whole ∷ Own Whole ∷ Alias Whole ∷ [])
    ≡ goes (Some (Null ∷ Own Whole ∷ Lost ∷ [])) None

-- declare type Head is access Node; P : Head; begin end; whose collection ends with the block, as its objects do: so it is there.
abbrev pub BlockLosesAnAlias : Type 0
BlockLosesAnAlias =
    stmt_flow linked_types linked_variables (around_implicit head_frees_tail) false (encloses (collects 1 ∷ declares 0 nothing ∷ []) no_stmts no_handlers)
    (Lost ∷ Own Whole ∷ Alias Whole ∷ [])
    ≡ goes (Some (Lost ∷ Own Whole ∷ Lost ∷ [])) None

-- The initialization of an object of Tail may free another one of it.
abbrev pub tail_frees_tail : Implicit
tail_frees_tail = record no_implicit { start_frees = are_both 2 2 }

-- P.C := new Node; the path follows no value of Tail. The alias in B is lost, also where there is no storage.
abbrev pub StartSparesTheTarget : Type 0
StartSparesTheTarget =
    stmt_flow linked_types linked_variables (around_implicit tail_frees_tail) false (assigns (example_path 0 (0 ∷ [])) (allocates_default 2))
    (Own Whole ∷ Own Whole ∷ Alias Whole ∷ [])
    ≡ goes (Some (Own Whole ∷ Own Whole ∷ Lost ∷ [])) (Some (Own Whole ∷ Own Whole ∷ Lost ∷ []))

-- It may free one of Head.
abbrev pub tail_frees_head : Implicit
tail_frees_head = record no_implicit { start_frees = are_both 2 1 }

-- Then the assignment is refused, whose path follows a value of Head.
abbrev pub StartIsRefused : Type 0
StartIsRefused =
    stmt_flow linked_types linked_variables (around_implicit tail_frees_head) false (assigns (example_path 0 (0 ∷ [])) (allocates_default 2))
    (Own Whole ∷ Own Whole ∷ Alias Whole ∷ [])
    ≡ faults example_spot UnsafePath

-- type Item is record C : Owner_Link; end record; type Item_Link is access Item; type Owner is record D : Item_Link; end record;
-- type Owner_Link is access Owner; type Box is record P : Item; end record; type Box_Link is access Box; which have numbers 0 to 5; and what a record of type
-- Item is known by has number 6.
abbrev pub boxed_types : List TypeForm
boxed_types =
    record_of [] [] (component.Access (record { 0 = 3 }) ∷ []) None
    ∷ access_to [] 0 None
    ∷ record_of [] [] (component.Access (record { 0 = 1 }) ∷ []) None
    ∷ access_to [] 2 None
    ∷ record_of [] (record { name = []; kind = part.Record (record { 0 = 0 }); first = 0; part = 0 } ∷ []) (component.Access (record { 0 = 3 }) ∷ []) None
    ∷ access_to [] 4 None
    ∷ object_of 0
    ∷ []

-- N, a record of type Item.
abbrev pub boxed_variables : List VariableForm
boxed_variables = record { name = []; spot = example_spot; kind = variable.Record (record { 0 = 6 }); borrows = false } ∷ []

-- A component behind N is freed, with N a formal parameter, or a record object, where the finalization of an object of the component's access type may free
-- objects of another one.
abbrev pub freed_behind_n : (selectors : List ℕ) → (access other : ℕ) → Holds → Outcome
freed_behind_n cs u t holds =
    stmt_flow boxed_types boxed_variables (around_implicit (record no_implicit { end_reaches = are_both u t })) false (frees u (object_path 0 cs)) holds

-- Free (N.C); so that of an object of Owner_Link.
abbrev pub component_of_n_is_freed : (access : ℕ) → Holds → Outcome
component_of_n_is_freed t holds = freed_behind_n (0 ∷ []) 3 t holds

-- It may free the object in which a formal parameter lies, by Item_Link, or by Box_Link.
abbrev pub FormalIsRefused : Type 0
FormalIsRefused = component_of_n_is_freed 1 (Alias Whole ∷ []) ≡ faults example_spot UnsafePath

abbrev pub BoxedFormalIsRefused : Type 0
BoxedFormalIsRefused = component_of_n_is_freed 5 (Alias Whole ∷ []) ≡ faults example_spot UnsafePath

-- By Owner_Link it may not: none of those objects has a part of type Item.
abbrev pub OtherFormalIsSpared : Type 0
OtherFormalIsSpared = component_of_n_is_freed 3 (Alias Whole ∷ []) ≡ goes (Some (Alias Whole ∷ [])) None

-- And it may not free a record object.
abbrev pub RecordObjectIsSpared : Type 0
RecordObjectIsSpared = component_of_n_is_freed 1 (Own Whole ∷ []) ≡ goes (Some (Own Whole ∷ [])) None

-- Free (N.C.D); where that of an object of Item_Link may free the object in which N lies: the component does not lie in N.
abbrev pub FollowedPathIsSpared : Type 0
FollowedPathIsSpared = freed_behind_n (0 ∷ 0 ∷ []) 1 1 (Alias Whole ∷ []) ≡ goes (Some (Alias Whole ∷ [])) (Some (Alias Whole ∷ []))
