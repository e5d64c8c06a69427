-- What the rules let through: only owners are freed and moved, and they own nothing after; a component is moved by a take pair, or into the new
-- object that it gets; what is freed lies on no way to it; borrowers take part in none of that; and what is copied as a whole owns nothing.

use Rattle.std.specs.Prelude.{◌≡◌, ◌≢◌, ◌⊎◌, ℕ, Bool, true, false, List, [], ◌∷◌, ◌++◌, Option, Some}
use Rattle.std.specs.List.{slice_get}
use Rattle.ada_program.specs.Form.{PathForm, RecordPathForm, ItemForm, item_of_path, item_of_record, RightForm, nothing, value_of, allocates, allocates_default, StmtForm, assigns, assigns_record, frees, StmtsForm, a_stmt, declares, declares_record}
use Rattle.ada_flow.specs.declared.rule.Hold.TheVariants.{Alias, Lost}
use Rattle.ada_flow.specs.declared.rule.Region.{Region}
use Rattle.ada_flow.specs.declared.rule.Rule.TheVariants.{LostValue}
use Rattle.ada_program.specs.declared.program.ComponentKind.{ComponentKind}
use Rattle.ada_program.specs.declared.program.ComponentKind.TheVariants as component
use Rattle.ada_program.specs.declared.program.TypeNo.{TypeNo}
use Rattle.ada_program.specs.ProgramForm.{TypeForm, VariableForm}
use Rattle.ada_program.specs.WellFormed.{access_of, record_components, reached_components, variable_kind, selectors_kind, path_access, is_borrower, names_borrower, lends_to}
use Rattle.ada_effects.specs.Effects.{assignment_frees, Implicit}
use Rattle.ada_flow.specs.Flow.{Holds, faults, goes, hold_at, variable_access, is_freed, Around, begins_pair, stmt_flow, stmts_flow, declaration_flow}
use Rattle.ada_flow.specs.Tracking.{no_tracks}
use Rattle.ada_owners.specs.Reliance.{Owns}
use Rattle.ada_sound.specs.Agreement.{IsOwner}
use Rattle.ada_sound.specs.Untracked.{untracked, AdjustsNoOwners}

-- A statement, the first of a take pair or not, breaks no rule from these holds.
abbrev pub IsLetThrough : List TypeForm → List VariableForm → StmtForm → Holds → Type 0
IsLetThrough types variables f holds =
    (around : Around) × (cleared : Bool) × (normal raising : Option Holds) × (stmt_flow types variables (untracked around) cleared f holds ≡ goes normal raising)

-- It comes to its end with these.
abbrev pub EndsWith : List TypeForm → List VariableForm → StmtForm → (holds after : Holds) → Type 0
EndsWith types variables f holds after =
    (around : Around) × (cleared : Bool) × (raising : Option Holds) × (stmt_flow types variables (untracked around) cleared f holds ≡ goes (Some after) raising)

-- It raises an exception with these.
abbrev pub RaisesWith : List TypeForm → List VariableForm → StmtForm → (holds raised : Holds) → Type 0
RaisesWith types variables f holds raised =
    (around : Around) × (cleared : Bool) × (normal : Option Holds) × (stmt_flow types variables (untracked around) cleared f holds ≡ goes normal (Some raised))

-- Statements break no rule from these holds.
abbrev pub AreLetThrough : List TypeForm → List VariableForm → StmtsForm → Holds → Type 0
AreLetThrough types variables fs holds =
    (around : Around) × (normal raising : Option Holds) × (stmts_flow types variables (untracked around) fs holds ≡ goes normal raising)

-- A variable owns nothing.
abbrev pub OwnsNothing : Holds → ℕ → Type 0
OwnsNothing holds x = Owns (hold_at holds x) → ⊥

-- A path is a variable, and no component.
abbrev pub IsVariable : PathForm → Type 0
IsVariable path = path.selectors ≡ []

-- What is assigned to is a component, or another variable than this one.
abbrev pub IsElsewhere : (target : PathForm) (x : ℕ) → Type 0
IsElsewhere target x = IsVariable target → x ≢ target.root

-- A variable holds an alias of one of some access types (3.10).
abbrev pub IsAliasOf : List VariableForm → (may : ℕ → Bool) → Holds → (x : ℕ) → Type 0
IsAliasOf variables may holds x = (r : Region) × (hold_at holds x ≡ Alias r) × (is_freed may (variable_access variables x) ≡ true)

-- A variable holds what it did, where operations may free objects of some access types in the midst (7.6); but an alias of one of these types is lost.
abbrev pub Stays : List VariableForm → (may : ℕ → Bool) → (holds after : Holds) → (x : ℕ) → Type 0
Stays variables may holds after x =
    (IsAliasOf variables may holds x → hold_at after x ≡ Lost) × ((IsAliasOf variables may holds x → ⊥) → hold_at after x ≡ hold_at holds x)

-- Two paths are one.
abbrev pub IsSamePath : PathForm → PathForm → Type 0
IsSamePath p q = (p.root ≡ q.root) × (p.selectors ≡ q.selectors)

-- Free (X) (13.11.2).
abbrev pub OnlyOwnersAreFreed : Type 0
OnlyOwnersAreFreed =
    (types : List TypeForm) (variables : List VariableForm) (access : ℕ) (path : PathForm) (holds : Holds) → IsVariable path
    → IsLetThrough types variables (frees access path) holds → IsOwner (hold_at holds path.root)

-- A variable that was freed owns nothing.
abbrev pub FreedOwnsNothing : Type 0
FreedOwnsNothing =
    (types : List TypeForm) (variables : List VariableForm) (access : ℕ) (path : PathForm) (holds after : Holds) → IsVariable path
    → EndsWith types variables (frees access path) holds after → OwnsNothing after path.root

-- Behind Free (P) no variable of P's own access type holds an alias: the object that it named may be gone.
abbrev pub FreeLeavesNoAlias : Type 0
FreeLeavesNoAlias =
    (types : List TypeForm) (variables : List VariableForm) (access t : ℕ) (path : PathForm) (holds after : Holds)
    → EndsWith types variables (frees access path) holds after → path_access types variables path ≡ Some t
    → (x : ℕ) → variable_access variables x ≡ Some t → (r : Region) → hold_at after x ≢ Alias r

-- Nor where Free (P.C) raises an exception: there as little is said as behind it.
abbrev pub RaisedFreeLeavesNoAlias : Type 0
RaisedFreeLeavesNoAlias =
    (types : List TypeForm) (variables : List VariableForm) (access t : ℕ) (path : PathForm) (holds raised : Holds)
    → RaisesWith types variables (frees access path) holds raised → path_access types variables path ≡ Some t
    → (x : ℕ) → variable_access variables x ≡ Some t → (r : Region) → hold_at raised x ≢ Alias r

-- Free (P.C): no value that the path follows, of its variable or of a component in front, is of the access type of what is freed.
abbrev pub FreedLiesOffItsWay : Type 0
FreedLiesOffItsWay =
    (types : List TypeForm) (variables : List VariableForm) (access t c : ℕ) (path : PathForm) (before behind : List ℕ) (holds : Holds)
    → IsLetThrough types variables (frees access path) holds → path_access types variables path ≡ Some t → path.selectors ≡ before ++ c ∷ behind
    → access_of (selectors_kind types (variable_kind variables path.root) before) ≢ Some t

-- What is found behind a lost value is not freed: that is a fault at the path.
abbrev pub LostIsNotFreedBehind : Type 0
LostIsNotFreedBehind =
    (types : List TypeForm) (variables : List VariableForm) (around : Around) (cleared : Bool) (access : ℕ) (path : PathForm) (holds : Holds)
    → hold_at holds path.root ≡ Lost → stmt_flow types variables (untracked around) cleared (frees access path) holds ≡ faults path.spot LostValue

-- P := Y (5.2), where P is no borrower.
abbrev pub OnlyOwnersAreMoved : Type 0
OnlyOwnersAreMoved =
    (types : List TypeForm) (variables : List VariableForm) (target path : PathForm) (holds : Holds) → names_borrower variables target ≡ false → IsVariable path
    → IsLetThrough types variables (assigns target (value_of path)) holds → IsOwner (hold_at holds path.root)

-- A variable whose value was moved owns nothing.
abbrev pub MovedOwnsNothing : Type 0
MovedOwnsNothing =
    (types : List TypeForm) (variables : List VariableForm) (target path : PathForm) (holds after : Holds) → names_borrower variables target ≡ false
    → IsVariable path → IsElsewhere target path.root → EndsWith types variables (assigns target (value_of path)) holds after → OwnsNothing after path.root

-- P := new T'(.., Y, ..) (4.8): what an item moves is a variable that owns it, or the component that the assignment goes to.
abbrev pub OnlyOwnersAreItems : Type 0
OnlyOwnersAreItems =
    (types : List TypeForm) (variables : List VariableForm) (target path : PathForm) (access i : ℕ) (items : List ItemForm) (holds : Holds)
    → slice_get items i ≡ Some (item_of_path path)
    → IsLetThrough types variables (assigns target (allocates access items)) holds
    → (IsVariable path × IsOwner (hold_at holds path.root)) ⊎ ((target.selectors ≢ []) × IsSamePath target path)

-- Two items move two paths.
abbrev pub ItemsMoveApart : Type 0
ItemsMoveApart =
    (types : List TypeForm) (variables : List VariableForm) (target path other : PathForm) (access i k : ℕ) (items : List ItemForm) (holds : Holds) → i ≢ k
    → slice_get items i ≡ Some (item_of_path path) → slice_get items k ≡ Some (item_of_path other)
    → IsLetThrough types variables (assigns target (allocates access items)) holds → IsSamePath path other → ⊥

-- A variable that an item moved owns nothing where the allocator comes to its end.
abbrev pub ItemsOwnNothing : Type 0
ItemsOwnNothing =
    (types : List TypeForm) (variables : List VariableForm) (target path : PathForm) (access i : ℕ) (items : List ItemForm) (holds after : Holds)
    → IsVariable path → slice_get items i ≡ Some (item_of_path path)
    → IsElsewhere target path.root → EndsWith types variables (assigns target (allocates access items)) holds after → OwnsNothing after path.root

-- Where the allocator raises an exception, each variable is what it was.
abbrev pub ItemsStayWhereRaised : Type 0
ItemsStayWhereRaised =
    (types : List TypeForm) (variables : List VariableForm) (target : PathForm) (access : ℕ) (items : List ItemForm) (holds raised : Holds)
    → RaisesWith types variables (assigns target (allocates access items)) holds raised → raised ≡ holds

-- P := new T (4.8): an allocator without items moves nothing, so each other variable holds what it did; but the initialization may free objects, whose
-- aliases are lost.
abbrev pub DefaultsMoveNothing : Type 0
DefaultsMoveNothing =
    (types : List TypeForm) (variables : List VariableForm) (around : Around) (cleared : Bool) (target : PathForm) (access : ℕ) (holds after : Holds)
    (raising : Option Holds)
    → stmt_flow types variables (untracked around) cleared (assigns target (allocates_default access)) holds ≡ goes (Some after) raising
    → (x : ℕ) (v : VariableForm) → slice_get variables x ≡ Some v → IsElsewhere target x
    → Stays variables (around.effects.implicit.start_frees access) holds after x

-- Where it raises an exception, each variable is what it was, but for such aliases.
abbrev pub DefaultsStayWhereRaised : Type 0
DefaultsStayWhereRaised =
    (types : List TypeForm) (variables : List VariableForm) (around : Around) (cleared : Bool) (target : PathForm) (access : ℕ) (holds raised : Holds)
    (normal : Option Holds)
    → stmt_flow types variables (untracked around) cleared (assigns target (allocates_default access)) holds ≡ goes normal (Some raised)
    → (x : ℕ) (v : VariableForm) → slice_get variables x ≡ Some v → Stays variables (around.effects.implicit.start_frees access) holds raised x

-- The statement behind `T := P.C;` is `P.C := null;`; T is another variable than the one that P begins with, or a component, and then P is
-- that variable alone. So the statement changes nothing on the way to P.C.
pub record IsTakePair (target path : PathForm) (behind : StmtsForm) : Type 0 where
  pub cleared : PathForm
  pub later : StmtsForm
  pub is_next : behind ≡ a_stmt (assigns cleared nothing) later
  pub root : cleared.root ≡ path.root
  pub selectors : cleared.selectors ≡ path.selectors
  pub leaves_way : (IsVariable target × (target.root ≢ path.root)) ⊎ ((target.selectors ≢ []) × (c : ℕ) × (path.selectors ≡ c ∷ []))

-- What is moved out of a component, to what is no borrower, is moved by the first statement of a take pair.
abbrev pub OnlyPairsTake : Type 0
OnlyPairsTake =
    (types : List TypeForm) (variables : List VariableForm) (target path : PathForm) (behind : StmtsForm) (holds : Holds) → names_borrower variables target ≡ false
    → path.selectors ≢ []
    → AreLetThrough types variables (a_stmt (assigns target (value_of path)) behind) holds
    → begins_pair (assigns target (value_of path)) behind ≡ true

-- The first statement of a take pair is one.
abbrev pub PairsAreTakePairs : Type 0
PairsAreTakePairs =
    (target path : PathForm) (behind : StmtsForm) → begins_pair (assigns target (value_of path)) behind ≡ true → IsTakePair target path behind

-- B := null, or B := P (3.10, 5.2), where B is a borrower: a statement that suits it moves nothing, so each other variable holds what it did.
abbrev pub BorrowersMoveNothing : Type 0
BorrowersMoveNothing =
    (types : List TypeForm) (variables : List VariableForm) (target : PathForm) (right : RightForm) (holds after : Holds) → names_borrower variables target ≡ true
    → lends_to variables true right ≡ true → EndsWith types variables (assigns target right) holds after
    → (x : ℕ) → x ≢ target.root → hold_at after x ≡ hold_at holds x

-- Behind it the borrower owns nothing.
abbrev pub BorrowersOwnNothing : Type 0
BorrowersOwnNothing =
    (types : List TypeForm) (variables : List VariableForm) (target : PathForm) (right : RightForm) (holds after : Holds) → names_borrower variables target ≡ true
    → lends_to variables true right ≡ true → EndsWith types variables (assigns target right) holds after → OwnsNothing after target.root

-- What is lost is not borrowed, nor what is found behind it (4.1): that is a fault at the path.
abbrev pub LostIsNotBorrowed : Type 0
LostIsNotBorrowed =
    (types : List TypeForm) (variables : List VariableForm) (around : Around) (cleared : Bool) (target path : PathForm) (holds : Holds)
    → names_borrower variables target ≡ true → hold_at holds path.root ≡ Lost
    → stmt_flow types variables (untracked around) cleared (assigns target (value_of path)) holds ≡ faults path.spot LostValue

-- B : access T := P; (3.3.1, 3.10): a declaration that suits a borrower moves nothing, so each other variable holds what it did.
abbrev pub DeclaredBorrowersMoveNothing : Type 0
DeclaredBorrowersMoveNothing =
    (types : List TypeForm) (variables : List VariableForm) (implicit : Implicit) (b : ℕ) (right : RightForm) (holds after : Holds) (raising : Option Holds)
    → is_borrower variables b ≡ true
    → lends_to variables true right ≡ true → declaration_flow types variables no_tracks implicit (declares b right) holds ≡ goes (Some after) raising
    → (x : ℕ) → x ≢ b → hold_at after x ≡ hold_at holds x

-- Behind it the borrower owns nothing.
abbrev pub DeclaredBorrowersOwnNothing : Type 0
DeclaredBorrowersOwnNothing =
    (types : List TypeForm) (variables : List VariableForm) (implicit : Implicit) (b : ℕ) (right : RightForm) (holds after : Holds) (raising : Option Holds)
    → is_borrower variables b ≡ true
    → lends_to variables true right ≡ true → declaration_flow types variables no_tracks implicit (declares b right) holds ≡ goes (Some after) raising → OwnsNothing after b

-- None of these components, if there are any, is of an access type (3.10): each holds an Integer or a Boolean.
abbrev pub HasNoAccess : Option (List ComponentKind) → Type 0
HasNoAccess found =
    (components : List ComponentKind) (c : ℕ) (access : TypeNo) → found ≡ Some components → slice_get components c ≢ Some (component.Access access)

-- R := ..; (5.2), a record as a whole: no elementary component of its type is of an access type.
abbrev pub AssignedRecordsArePlain : Type 0
AssignedRecordsArePlain =
    (types : List TypeForm) → AdjustsNoOwners types → (variables : List VariableForm) (target : RecordPathForm) (items : List ItemForm) (holds : Holds)
    → IsLetThrough types variables (assigns_record target items) holds → HasNoAccess (record_components types target.record_type)

-- Nor is one of a record that is copied as an item of what is assigned (4.3.1).
abbrev pub AssignedItemsArePlain : Type 0
AssignedItemsArePlain =
    (types : List TypeForm) → AdjustsNoOwners types → (variables : List VariableForm) (target : RecordPathForm) (i : ℕ) (items : List ItemForm) (p : RecordPathForm) (holds : Holds)
    → slice_get items i ≡ Some (item_of_record p)
    → IsLetThrough types variables (assigns_record target items) holds → HasNoAccess (record_components types p.record_type)

-- P := new T'(.., R, ..) (4.8): nor is one of a record that is copied into a new object.
abbrev pub CopiedItemsArePlain : Type 0
CopiedItemsArePlain =
    (types : List TypeForm) → AdjustsNoOwners types → (variables : List VariableForm) (target : PathForm) (access i : ℕ) (items : List ItemForm) (p : RecordPathForm) (holds : Holds)
    → slice_get items i ≡ Some (item_of_record p)
    → IsLetThrough types variables (assigns target (allocates access items)) holds → HasNoAccess (record_components types p.record_type)

-- R : T := ..; (3.3.1): nor is one of a record object with an initial value.
abbrev pub DeclaredRecordsArePlain : Type 0
DeclaredRecordsArePlain =
    (types : List TypeForm) → AdjustsNoOwners types → (variables : List VariableForm) (implicit : Implicit) (x object_type : ℕ) (items : List ItemForm) (holds : Holds) (normal raising : Option Holds)
    → declaration_flow types variables no_tracks implicit (declares_record x object_type (Some items)) holds ≡ goes normal raising
    → HasNoAccess (reached_components types object_type)

-- An assignment of a record moves nothing: where it comes to its end, each variable holds what it did; but the finalization and the adjustment of the record
-- may free objects, whose aliases are lost.
abbrev pub CopiesMoveNothing : Type 0
CopiesMoveNothing =
    (types : List TypeForm) (variables : List VariableForm) (around : Around) (cleared : Bool) (target : RecordPathForm) (items : List ItemForm)
    (holds after : Holds) (raising : Option Holds)
    → stmt_flow types variables (untracked around) cleared (assigns_record target items) holds ≡ goes (Some after) raising
    → (x : ℕ) (v : VariableForm) → slice_get variables x ≡ Some v
    → Stays variables (λ t. assignment_frees around.effects.implicit t target.record_type) holds after x

-- So it does where it raises one.
abbrev pub CopiesStayWhereRaised : Type 0
CopiesStayWhereRaised =
    (types : List TypeForm) (variables : List VariableForm) (around : Around) (cleared : Bool) (target : RecordPathForm) (items : List ItemForm)
    (holds raised : Holds) (normal : Option Holds)
    → stmt_flow types variables (untracked around) cleared (assigns_record target items) holds ≡ goes normal (Some raised)
    → (x : ℕ) (v : VariableForm) → slice_get variables x ≡ Some v
    → Stays variables (λ t. assignment_frees around.effects.implicit t target.record_type) holds raised x
