-- What is left to do fits what is there: each frame finds operands of the kinds that it waits for, and leaves one of the kind that is waited for.

use Rattle.ada_typed.specs.Holding.{Cells, Designates, IsAccess, HaveKinds, PartsLie, cells_of, seen_now}
use Rattle.std.proofs.Common.{◌≡◌, ℕ, zero, suc, ◌+◌, ◌≤◌, Bool, true, false, List, [], ◌∷◌, ◌++◌, length, take, drop, reverse, Option, Some, None, arith, refl, sym, ap, ◌∙◌, subst}
use Rattle.std.proofs.lemmas.List.{reverse-append}
use Rattle.std.specs.List.{list_all, slice_get}
use Rattle.ada_program.specs.declared.program.ComponentKind.{ComponentKind}
use Rattle.ada_program.specs.declared.program.ScalarType.{ScalarType}
use Rattle.ada_program.specs.declared.program.TypeNo.{TypeNo}
use Rattle.ada_program.specs.declared.program.VariableKind.{VariableKind}
use Rattle.ada_program.specs.declared.program.VariableKind.TheVariants as variable
use Rattle.ada_program.specs.Form.{ActualForm, in_value, in_null, in_access, in_record, in_out_path, in_out_access, in_out_component, in_out_record, StmtForm, StmtsForm, BranchesForm, HandlersForm}
use Rattle.ada_program.specs.ProgramForm.{TypeForm, BodyForm, ProgramForm, seen_in}
use Rattle.ada_program.specs.Freed.{statement_frees_own, statements_free_own, branches_free_own, handlers_free_own}
use Rattle.ada_program.specs.WellFormed.{is_access, reached_components, record_components, held_kind, variable_kind, selected_kind, selectors_kind, path_kind, is_this, object_in, is_record_path, object_named, stands_alone, unary_type, binary_type, type_of, chain_type, has_record_at, items_fit, kind_takes, condition_fits, has_statement, actuals_fit, formal_kinds, callable_in, overrides_none}
use Rattle.ada_parts.specs.Part.{Part as PartOf}
use Rattle.ada_parts.specs.Task.{Task, performs}
use Rattle.ada_meaning.specs.declared.event.Birth.{Birth}
use Rattle.ada_program.specs.declared.program.Exception.{Exception}
use Rattle.ada_meaning.specs.declared.state.Value.{Value}
use Rattle.ada_meaning.specs.declared.state.Value.TheVariants.{Null, Names, Scalar, Part}
use Rattle.ada_meaning.specs.declared.state.Mode.{Mode}
use Rattle.ada_meaning.specs.declared.state.Mode.TheVariants.{Running, Raising, Exiting, Returning}
use Rattle.ada_meaning.specs.Frame.{Frame, Treatment, is_loop, is_return}
use Rattle.ada_meaning.specs.Frame as frame
use Rattle.ada_meaning.specs.Named.{State}
use Rattle.ada_meaning.specs.State.{Activation}
use Rattle.ada_meaning.specs.Step.{procedure_of, in_front, older}
use Rattle.ada_typed.proofs.Parts.{shown_shapes, parts_known, Within}
use Rattle.ada_typed.proofs.Lying.{Lying, undoing}
use Rattle.ada_typed.proofs.OfKinds.{initial_is_of_kind, statement_is_of_kind, statements_are_of_kind, branches_are_of_kind, handlers_are_of_kind}
use Rattle.ada_typed.proofs.Values.{OperandKind, of_kind, refers_to, lies_in, is_record_kind, RefersTo, AreFilled, AreHeld, AreComputed, IsActive, kind_of}

-- The kinds of operands, newest first, once values for these components have been computed in order.
abbrev pub onto : List ComponentKind → List OperandKind → List OperandKind
onto [] kinds = kinds
onto (c ∷ cs) kinds = onto cs (of_kind (held_kind c) ∷ kinds)

abbrev pub IsName : Value → Type 0
IsName Null = ⊥
IsName (Names o) = Unit {0}
IsName (Scalar v) = ⊥
IsName (Part o place) = ⊥

-- What is left of the treatment of an object that values of a type name speaks of records that lie in it, and of parts that it has (7.6, 7.6.1).
abbrev pub TasksFit : List TypeForm → (access : ℕ) → List Task → Type 0
TasksFit types access tasks = Within (shown_shapes types) (parts_known types access) tasks × Lying types access tasks

-- What has begun already by a treatment, as the operations that would undo it.
abbrev pub begun_tasks : Treatment → List Task
begun_tasks (frame.begins by done) = undoing done
begun_tasks (frame.ends cause) = []

-- What is left of a treatment is that of the object that a value names, and so is what has begun by it.
abbrev pub IsTreated : List TypeForm → Cells → Value → Treatment → List Task → Type 0
IsTreated types cells Null treatment tasks = ⊥
IsTreated types cells (Names o) treatment tasks = (access : ℕ) × Designates cells access o × TasksFit types access tasks × TasksFit types access (begun_tasks treatment)
IsTreated types cells (Scalar v) treatment tasks = ⊥
IsTreated types cells (Part o place) treatment tasks = ⊥

-- The kinds of the operands that are computed for an actual parameter whose formal one is of a kind, in order, and of those for others behind it.
abbrev pub kinds_given : VariableKind → ActualForm → (others : List OperandKind) → List OperandKind
kinds_given kind (in_value e) others = of_kind kind ∷ others
kinds_given kind in_null others = of_kind kind ∷ others
kinds_given kind (in_access path) others = of_kind kind ∷ others
kinds_given kind (in_record q) others = of_kind kind ∷ others
kinds_given kind (in_out_path path) others = of_kind kind ∷ others
kinds_given kind (in_out_access path) others = of_kind kind ∷ others
kinds_given kind (in_out_component path) others = refers_to kind ∷ of_kind kind ∷ others
kinds_given kind (in_out_record q) others = of_kind kind ∷ others

-- The kinds of the operands of a call whose formal parameters are of these kinds, in order (6.4.1).
abbrev pub operand_kinds : List VariableKind → List ActualForm → List OperandKind
operand_kinds [] actuals = []
operand_kinds (kind ∷ kinds) [] = []
operand_kinds (kind ∷ kinds) (a ∷ rest) = kinds_given kind a (operand_kinds kinds rest)

-- The kinds of what a formal parameter gives back to a component, and of what others give back behind it.
abbrev pub kinds_stored : VariableKind → ActualForm → (others : List VariableKind) → List VariableKind
kinds_stored kind (in_value e) others = others
kinds_stored kind in_null others = others
kinds_stored kind (in_access path) others = others
kinds_stored kind (in_record q) others = others
kinds_stored kind (in_out_path path) others = others
kinds_stored kind (in_out_access path) others = others
kinds_stored kind (in_out_component path) others = kind ∷ others
kinds_stored kind (in_out_record q) others = others

-- The kinds of what goes back to components, where the formal parameters are of these kinds, in order (6.4.1).
abbrev pub stored_kinds : List VariableKind → List ActualForm → List VariableKind
stored_kinds [] actuals = []
stored_kinds (kind ∷ kinds) [] = []
stored_kinds (kind ∷ kinds) (a ∷ rest) = kinds_stored kind a (stored_kinds kinds rest)

-- Values refer to components that hold values of these kinds, one for each, in order.
abbrev pub AreReferences : List TypeForm → Cells → List VariableKind → List Value → Type 0
AreReferences types cells [] [] = Unit {0}
AreReferences types cells [] (r ∷ rs) = ⊥
AreReferences types cells (kind ∷ kinds) [] = ⊥
AreReferences types cells (kind ∷ kinds) (r ∷ rs) = RefersTo types cells kind r × AreReferences types cells kinds rs

-- What refers to a record of a type is an operand of a kind: what a record parameter of that type holds (6.2), or what an assignment takes (5.2).
abbrev pub IsReference : List TypeForm → OperandKind → (record_type : ℕ) → Type 0
IsReference types (of_kind variable.Integer) t = ⊥
IsReference types (of_kind variable.Boolean) t = ⊥
IsReference types (of_kind (variable.Access access)) t = ⊥
IsReference types (of_kind (variable.Record object)) t = (is_this t (object_in (slice_get types object.0)) ≡ true)
IsReference types (refers_to kind) t = ⊥
IsReference types (lies_in u) t = (u ≡ t)

-- What holds at the end of the body of a call (6.5), and at each other frame.
abbrev pub AtReturn : (return : Bool) → (ends further : Type 0) → Type 0
AtReturn true ends further = ends
AtReturn false ends further = further

-- What is left to do behind a frame to which an exit comes (5.7): a loop stops it.
abbrev pub AtLoop : (loop : Bool) → (behind further : Type 0) → Type 0
AtLoop true behind further = behind
AtLoop false behind further = further

-- What holds of statements inside a loop.
abbrev pub WhereInside : (inside : Bool) → Type 0 → Type 0
WhereInside true lands = lands
WhereInside false lands = Unit {0}

-- The statements of the body that a program stands for free by the instances for what they free (13.11.2), and so do those of its handlers.
abbrev pub OwnBody : ProgramForm → Type 0
OwnBody p = (statements_free_own p.types p.variables p.statements ≡ true) × (handlers_free_own p.types p.variables p.handlers ≡ true)

-- A statement of a body fits, and frees by the instance for what it frees, where the body does.
abbrev pub FitStmt : ProgramForm → (inside : Bool) → StmtForm → Type 0
FitStmt p inside f =
    (statement_is_of_kind p.types p.variables p.texts p.exceptions (callable_in p) inside f ≡ true) × (OwnBody p → statement_frees_own p.types p.variables f ≡ true)

-- Statements of a body fit, and free by the instances for what they free, where the body does.
abbrev pub FitStmts : ProgramForm → (inside : Bool) → StmtsForm → Type 0
FitStmts p inside fs =
    (statements_are_of_kind p.types p.variables p.texts p.exceptions (callable_in p) inside fs ≡ true) × (OwnBody p → statements_free_own p.types p.variables fs ≡ true)

-- So do those of branches.
abbrev pub FitBranches : ProgramForm → (inside : Bool) → BranchesForm → Type 0
FitBranches p inside branches =
    (branches_are_of_kind p.types p.variables p.texts p.exceptions (callable_in p) inside branches ≡ true) × (OwnBody p → branches_free_own p.types p.variables branches ≡ true)

-- So do those of handlers.
abbrev pub FitHandlers : ProgramForm → (inside : Bool) → HandlersForm → Type 0
FitHandlers p inside hs =
    (handlers_are_of_kind p.types p.variables p.texts p.exceptions (callable_in p) inside hs ≡ true) × (OwnBody p → handlers_free_own p.types p.variables hs ≡ true)

-- The handlers that an exception comes to at a frame (11.4).
abbrev pub handlers_in : Frame Value → Option HandlersForm
handlers_in (frame.Handles hs) = Some hs
handlers_in f = None

-- What is left to do behind a frame to which an exception comes (11.4): where there are handlers, they fit, and what is behind them does.
abbrev pub AtHandlers : ProgramForm → Option HandlersForm → (lands behind further : Type 0) → Type 0
AtHandlers p None lands behind further = further
AtHandlers p (Some hs) lands behind further = (inside : Bool) × FitHandlers p inside hs × WhereInside inside lands × behind

-- A frame behind the call of an operation of a controlled type (7.6, 7.6.1): nothing that is left of a body comes to one, unless that call has ended.
abbrev pub is_operation : Frame Value → Bool
is_operation (frame.Awaits v by done of part tasks) = true
is_operation frame.Confines = true
is_operation f = false

-- What holds at a frame where no call of an operation ends.
abbrev pub NoOperation : (operation : Bool) → Type 0 → Type 0
NoOperation true holds = ⊥
NoOperation false holds = holds

-- How it goes on behind a master that is left: what is behind it fits; or an exception comes to handlers that fit, and an exit to a loop.
abbrev pub FitsBehind : Mode → (behind lands catches : Type 0) → Type 0
FitsBehind Running behind lands catches = behind
FitsBehind (Raising e) behind lands catches = catches
FitsBehind Exiting behind lands catches = lands × catches
FitsBehind Returning behind lands catches = catches

abbrev mutual
  -- Operands of these kinds are there; what is left of the running body fits them. Where statements begin, no operand is there. No call of an operation ends.
  pub Fits : ProgramForm → Cells → List OperandKind → List (Frame Value) → Type 0
  Fits p cells kinds [] = Unit {0}
  Fits p cells kinds (frame.Elaborates ds fs hs ∷ k) = (kinds ≡ []) × (inside : Bool) × (list_all (initial_is_of_kind p.types p.variables) ds ≡ true) × FitStmts p inside fs × FitHandlers p inside hs × WhereInside inside (Lands p cells k) × Fits p cells [] k
  Fits p cells kinds (frame.Does fs ∷ k) = (kinds ≡ []) × (inside : Bool) × FitStmts p inside fs × WhereInside inside (Lands p cells k) × Fits p cells [] k
  Fits p cells kinds (frame.Decides fs branches ∷ k) = (kinds ≡ of_kind variable.Boolean ∷ []) × (inside : Bool) × FitStmts p inside fs × FitBranches p inside branches × WhereInside inside (Lands p cells k) × Fits p cells [] k
  Fits p cells kinds (frame.Repeats condition fs ∷ k) = (kinds ≡ []) × (condition_fits p.types p.variables condition ≡ true) × (has_statement fs ≡ true) × FitStmts p true fs × Fits p cells [] k
  Fits p cells kinds (frame.Turns e fs ∷ k) = (kinds ≡ of_kind variable.Boolean ∷ []) × (condition_fits p.types p.variables (Some e) ≡ true) × (has_statement fs ≡ true) × FitStmts p true fs × Fits p cells [] k
  Fits p cells kinds (frame.Ranges x fs ∷ k) = (kinds ≡ of_kind variable.Integer ∷ of_kind variable.Integer ∷ []) × (variable_kind p.variables x ≡ Some variable.Integer) × (has_statement fs ≡ true) × FitStmts p true fs × Fits p cells [] k
  Fits p cells kinds (frame.Counts x value last fs ∷ k) = (kinds ≡ []) × (variable_kind p.variables x ≡ Some variable.Integer) × (has_statement fs ≡ true) × FitStmts p true fs × Fits p cells [] k
  Fits p cells kinds (frame.Exits ∷ k) = (kinds ≡ of_kind variable.Boolean ∷ []) × Lands p cells k × Fits p cells [] k
  Fits p cells kinds (frame.Handles hs ∷ k) = (kinds ≡ []) × (inside : Bool) × FitHandlers p inside hs × WhereInside inside (Lands p cells k) × Fits p cells [] k
  Fits p cells kinds (frame.Closes ∷ k) = Fits p cells kinds k
  Fits p cells kinds (frame.Leaves mode ∷ k) = FitsBehind mode (Fits p cells kinds k) (Lands p cells k) (Catches p cells k)
  Fits p cells kinds (frame.Calls procedure b actuals ∷ k) = (slice_get p.bodies procedure ≡ Some b) × (kinds ≡ in_front (operand_kinds (formal_kinds b) actuals) []) × (actuals_fit p.types p.variables (formal_kinds b) actuals ≡ true) × Fits p cells [] k
  Fits p cells kinds (frame.Returns actuals references ∷ k) = (kinds ≡ [])
  Fits p cells kinds (frame.Evaluates right ∷ k) = (kind : VariableKind) × (kind_takes p.types p.variables kind right ≡ true) × Fits p cells (of_kind kind ∷ kinds) k
  Fits p cells kinds (frame.Computes e ∷ k) = (t : ScalarType) × (type_of p.types p.variables e ≡ Some t) × Fits p cells (of_kind (kind_of t) ∷ kinds) k
  Fits p cells kinds (frame.Follows cs ∷ k) = (ks : List OperandKind) × (from : VariableKind) × (to : VariableKind) × (kinds ≡ of_kind from ∷ ks) × (selectors_kind p.types (Some from) cs ≡ Some to) × (is_record_kind from ≡ false) × Fits p cells (of_kind to ∷ ks) k
  Fits p cells kinds (frame.TestsNull equal ∷ k) = (ks : List OperandKind) × (access : TypeNo) × (kinds ≡ of_kind (variable.Access access) ∷ ks) × Fits p cells (of_kind variable.Boolean ∷ ks) k
  Fits p cells kinds (frame.Refers q ∷ k) = (kind : OperandKind) × (is_record_path p.types p.variables q ≡ true) × IsReference p.types kind q.record_type × Fits p cells (kind ∷ kinds) k
  Fits p cells kinds (frame.RefersIn place t ∷ k) = (ks : List OperandKind) × (access : TypeNo) × (kind : OperandKind) × (rs : List ComponentKind) × (kinds ≡ of_kind (variable.Access access) ∷ ks) × (record_components p.types t ≡ Some rs) × (has_record_at (reached_components p.types access.0) place.component (Some rs) ≡ true) × PartsLie p.types (object_named p.types (Some access.0)) (Some t) place.component place.part × IsReference p.types kind t × Fits p cells (kind ∷ ks) k
  Fits p cells kinds (frame.Opens path ∷ k) = (kind : VariableKind) × (path_kind p.types p.variables path ≡ Some kind) × (stands_alone path.selectors ≡ false) × Fits p cells (of_kind kind ∷ refers_to kind ∷ kinds) k
  Fits p cells kinds (frame.OpensIn c ∷ k) = (ks : List OperandKind) × (access : TypeNo) × (kind : VariableKind) × (kinds ≡ of_kind (variable.Access access) ∷ ks) × (selected_kind p.types (Some (variable.Access access)) c ≡ Some kind) × Fits p cells (of_kind kind ∷ refers_to kind ∷ ks) k
  Fits p cells kinds (frame.Continues links ∷ k) = (ks : List OperandKind) × (l : ScalarType) × (t : ScalarType) × (kinds ≡ of_kind (kind_of l) ∷ ks) × (chain_type p.types p.variables (Some l) links ≡ Some t) × Fits p cells (of_kind (kind_of t) ∷ ks) k
  Fits p cells kinds (frame.Applies operator ∷ k) = (ks : List OperandKind) × (l : ScalarType) × (r : ScalarType) × (t : ScalarType) × (kinds ≡ of_kind (kind_of r) ∷ of_kind (kind_of l) ∷ ks) × (binary_type operator (Some l) (Some r) ≡ Some t) × Fits p cells (of_kind (kind_of t) ∷ ks) k
  Fits p cells kinds (frame.AppliesAlone operator ∷ k) = (ks : List OperandKind) × (l : ScalarType) × (t : ScalarType) × (kinds ≡ of_kind (kind_of l) ∷ ks) × (unary_type operator (Some l) ≡ Some t) × Fits p cells (of_kind (kind_of t) ∷ ks) k
  Fits p cells kinds (frame.Fills items ∷ k) = (cs : List ComponentKind) × (items_fit p.types p.variables cs items ≡ true) × Fits p cells (onto cs kinds) k
  Fits p cells kinds (frame.Copies first t ∷ k) = (ks : List OperandKind) × (access : TypeNo) × (rs : List ComponentKind) × (kinds ≡ of_kind (variable.Access access) ∷ ks) × (record_components p.types t ≡ Some rs) × (has_record_at (reached_components p.types access.0) first (Some rs) ≡ true) × ((part : ℕ) × PartsLie p.types (object_named p.types (Some access.0)) (Some t) first part) × Fits p cells (onto rs ks) k
  Fits p cells kinds (frame.Creates access count ∷ k) = (ks : List OperandKind) × (cs : List ComponentKind) × (kinds ≡ onto cs ks) × (reached_components p.types access ≡ Some cs) × (count ≡ length cs) × Fits p cells (of_kind (variable.Access (record { 0 = access })) ∷ ks) k
  Fits p cells kinds (frame.Stores x ∷ k) = (ks : List OperandKind) × (kind : VariableKind) × (kinds ≡ of_kind kind ∷ ks) × (variable_kind p.variables x ≡ Some kind) × Fits p cells ks k
  Fits p cells kinds (frame.Targets c right ∷ k) = (ks : List OperandKind) × (access : TypeNo) × (kind : VariableKind) × (kinds ≡ of_kind (variable.Access access) ∷ ks) × (selected_kind p.types (Some (variable.Access access)) c ≡ Some kind) × (kind_takes p.types p.variables kind right ≡ true) × Fits p cells ks k
  Fits p cells kinds (frame.StoresIn object c ∷ k) = (ks : List OperandKind) × (access : TypeNo) × (kind : VariableKind) × (kinds ≡ of_kind kind ∷ ks) × IsName object × IsAccess cells access.0 object × (selected_kind p.types (Some (variable.Access access)) c ≡ Some kind) × Fits p cells ks k
  Fits p cells kinds (frame.TargetsRecord first t items ∷ k) = (ks : List OperandKind) × (access : TypeNo) × (rs : List ComponentKind) × (kinds ≡ of_kind (variable.Access access) ∷ ks) × (record_components p.types t ≡ Some rs) × (has_record_at (reached_components p.types access.0) first (Some rs) ≡ true) × (items_fit p.types p.variables rs items ≡ true) × Fits p cells ks k
  Fits p cells kinds (frame.StoresRecord object first count ∷ k) = (ks : List OperandKind) × (access : TypeNo) × (rs : List ComponentKind) × (kinds ≡ onto rs ks) × (count ≡ length rs) × IsName object × IsAccess cells access.0 object × (has_record_at (reached_components p.types access.0) first (Some rs) ≡ true) × Fits p cells ks k
  Fits p cells kinds (frame.Assigns t ∷ k) = (ks : List OperandKind) × (rs : List ComponentKind) × (kinds ≡ lies_in t ∷ lies_in t ∷ ks) × (record_components p.types t ≡ Some rs) × Fits p cells ks k
  Fits p cells kinds (frame.Receives c ∷ k) = (ks : List OperandKind) × (access : TypeNo) × (kinds ≡ of_kind (variable.Access access) ∷ ks) × (selected_kind p.types (Some (variable.Access access)) c ≡ Some variable.Integer) × Fits p cells ks k
  Fits p cells kinds (frame.FreesIn access c ∷ k) = (ks : List OperandKind) × (holder : TypeNo) × (own : TypeNo) × (kinds ≡ of_kind (variable.Access holder) ∷ ks) × (selected_kind p.types (Some (variable.Access holder)) c ≡ Some (variable.Access own)) × (OwnBody p → own.0 ≡ access) × Fits p cells ks k
  Fits p cells kinds (frame.Declares x ∷ k) = (ks : List OperandKind) × (kind : VariableKind) × (kinds ≡ of_kind kind ∷ ks) × (variable_kind p.variables x ≡ Some kind) × Fits p cells ks k
  Fits p cells kinds (frame.DeclaresRecord x t ∷ k) = (ks : List OperandKind) × (object : TypeNo) × (cs : List ComponentKind) × (kinds ≡ onto cs ks) × (variable_kind p.variables x ≡ Some (variable.Record object)) × (t ≡ object.0) × (reached_components p.types t ≡ Some cs) × (is_access p.types t ≡ false) × Fits p cells ks k
  Fits p cells kinds (frame.Treats v treatment tasks ∷ k) = IsTreated p.types cells v treatment tasks × Fits p cells kinds k
  Fits p cells kinds (frame.Awaits v by done of part tasks ∷ k) = ⊥
  Fits p cells kinds (frame.Confines ∷ k) = ⊥
  Fits p cells kinds (frame.Resumes mode ∷ k) = FitsBehind mode (Fits p cells kinds k) (Lands p cells k) (Catches p cells k)
  Fits p cells kinds (frame.Writes ∷ k) = (ks : List OperandKind) × (kinds ≡ of_kind variable.Integer ∷ ks) × Fits p cells ks k
  Fits p cells kinds (frame.Ends v ∷ k) = IsName v × Fits p cells kinds k
  Fits p cells kinds (frame.GivesBack v cause pool ∷ k) = IsName v × Fits p cells kinds k
  Fits p cells kinds (frame.Clears x ∷ k) = (access : TypeNo) × (variable_kind p.variables x ≡ Some (variable.Access access)) × Fits p cells kinds k
  Fits p cells kinds (frame.ClearsIn object c ∷ k) = (holder : TypeNo) × (own : TypeNo) × IsName object × IsAccess cells holder.0 object × (selected_kind p.types (Some (variable.Access holder)) c ≡ Some (variable.Access own)) × Fits p cells kinds k

  -- There is a loop in the running body; behind it, what is left of the body fits where no operand is there (5.7).
  pub Lands : ProgramForm → Cells → List (Frame Value) → Type 0
  Lands p cells [] = ⊥
  Lands p cells (f ∷ k) = AtReturn (is_return f) ⊥ (AtLoop (is_loop f) (Fits p cells [] k) (Lands p cells k))

  -- Behind the first handlers of the running body, if there are some, what is left of it fits where no operand is there (11.4); and in front of them no
  -- call of an operation ends.
  pub Catches : ProgramForm → Cells → List (Frame Value) → Type 0
  Catches p cells [] = Unit {0}
  Catches p cells (f ∷ k) =
      AtReturn (is_return f) (Unit {0})
      (NoOperation (is_operation f) (AtHandlers p (handlers_in f) (Lands p cells k) (Fits p cells [] k) (Catches p cells k)))

-- How many masters what is left to do belongs to.
abbrev pub depth : List (Frame Value) → ℕ
depth [] = 0
depth (frame.Elaborates ds fs hs ∷ k) = 1 + depth k
depth (frame.Does fs ∷ k) = depth k
depth (frame.Decides fs branches ∷ k) = depth k
depth (frame.Repeats condition fs ∷ k) = depth k
depth (frame.Turns condition fs ∷ k) = depth k
depth (frame.Ranges x fs ∷ k) = depth k
depth (frame.Counts x value last fs ∷ k) = depth k
depth (frame.Exits ∷ k) = depth k
depth (frame.Handles hs ∷ k) = depth k
depth (frame.Closes ∷ k) = 1 + depth k
depth (frame.Leaves mode ∷ k) = 1 + depth k
depth (frame.Calls procedure b actuals ∷ k) = depth k
depth (frame.Returns actuals references ∷ k) = depth k
depth (frame.Evaluates right ∷ k) = depth k
depth (frame.Computes e ∷ k) = depth k
depth (frame.Follows cs ∷ k) = depth k
depth (frame.TestsNull equal ∷ k) = depth k
depth (frame.Refers q ∷ k) = depth k
depth (frame.RefersIn place t ∷ k) = depth k
depth (frame.Opens path ∷ k) = depth k
depth (frame.OpensIn c ∷ k) = depth k
depth (frame.Continues links ∷ k) = depth k
depth (frame.Applies operator ∷ k) = depth k
depth (frame.AppliesAlone operator ∷ k) = depth k
depth (frame.Fills items ∷ k) = depth k
depth (frame.Copies first t ∷ k) = depth k
depth (frame.Creates access count ∷ k) = depth k
depth (frame.Stores x ∷ k) = depth k
depth (frame.Targets c right ∷ k) = depth k
depth (frame.StoresIn object c ∷ k) = depth k
depth (frame.TargetsRecord first t items ∷ k) = depth k
depth (frame.StoresRecord object first count ∷ k) = depth k
depth (frame.Assigns t ∷ k) = depth k
depth (frame.Receives c ∷ k) = depth k
depth (frame.FreesIn access c ∷ k) = depth k
depth (frame.Declares x ∷ k) = depth k
depth (frame.DeclaresRecord x t ∷ k) = depth k
depth (frame.Treats v treatment tasks ∷ k) = depth k
depth (frame.Awaits v by done of part tasks ∷ k) = depth k
depth (frame.Confines ∷ k) = depth k
depth (frame.Resumes mode ∷ k) = depth k
depth (frame.Writes ∷ k) = depth k
depth (frame.Ends v ∷ k) = depth k
depth (frame.GivesBack v cause pool ∷ k) = depth k
depth (frame.Clears x ∷ k) = depth k
depth (frame.ClearsIn object c ∷ k) = depth k

pub depth_behind : (f : Frame Value) (k : List (Frame Value)) → depth k ≤ depth (f ∷ k)
depth_behind (frame.Elaborates ds fs hs) k = omega arith
depth_behind (frame.Does fs) k = omega arith
depth_behind (frame.Decides fs branches) k = omega arith
depth_behind (frame.Repeats condition fs) k = omega arith
depth_behind (frame.Turns condition fs) k = omega arith
depth_behind (frame.Ranges x fs) k = omega arith
depth_behind (frame.Counts x value last fs) k = omega arith
depth_behind frame.Exits k = omega arith
depth_behind (frame.Handles hs) k = omega arith
depth_behind frame.Closes k = omega arith
depth_behind (frame.Leaves mode) k = omega arith
depth_behind (frame.Calls procedure b actuals) k = omega arith
depth_behind (frame.Returns actuals references) k = omega arith
depth_behind (frame.Evaluates right) k = omega arith
depth_behind (frame.Computes e) k = omega arith
depth_behind (frame.Follows cs) k = omega arith
depth_behind (frame.TestsNull equal) k = omega arith
depth_behind (frame.Refers q) k = omega arith
depth_behind (frame.RefersIn place t) k = omega arith
depth_behind (frame.Opens path) k = omega arith
depth_behind (frame.OpensIn c) k = omega arith
depth_behind (frame.Continues links) k = omega arith
depth_behind (frame.Applies operator) k = omega arith
depth_behind (frame.AppliesAlone operator) k = omega arith
depth_behind (frame.Fills items) k = omega arith
depth_behind (frame.Copies first t) k = omega arith
depth_behind (frame.Creates access count) k = omega arith
depth_behind (frame.Stores x) k = omega arith
depth_behind (frame.Targets c right) k = omega arith
depth_behind (frame.StoresIn object c) k = omega arith
depth_behind (frame.TargetsRecord first t items) k = omega arith
depth_behind (frame.StoresRecord object first count) k = omega arith
depth_behind (frame.Assigns t) k = omega arith
depth_behind (frame.Receives c) k = omega arith
depth_behind (frame.FreesIn access c) k = omega arith
depth_behind (frame.Declares x) k = omega arith
depth_behind (frame.DeclaresRecord x t) k = omega arith
depth_behind (frame.Treats v treatment tasks) k = omega arith
depth_behind (frame.Awaits v by done of part tasks) k = omega arith
depth_behind frame.Confines k = omega arith
depth_behind (frame.Resumes mode) k = omega arith
depth_behind frame.Writes k = omega arith
depth_behind (frame.Ends v) k = omega arith
depth_behind (frame.GivesBack v cause pool) k = omega arith
depth_behind (frame.Clears x) k = omega arith
depth_behind (frame.ClearsIn object c) k = omega arith

-- A state whose values have their kinds, and no jump is on its way.
pub record Ready (p : ProgramForm) (kinds : List OperandKind) (s : State) : Type 0 where
  pub filled : AreFilled p.types (cells_of s.heap) (cells_of s.heap)
  pub active : IsActive p.types (cells_of s.heap) p.variables kinds s.activations
  pub runs : s.mode ≡ Running
  pub deep : depth s.control ≤ length s.masters

-- The same, while a jump is on its way, which has dropped all operands.
pub record Jumps (p : ProgramForm) (mode : Mode) (s : State) : Type 0 where
  pub filled : AreFilled p.types (cells_of s.heap) (cells_of s.heap)
  pub active : IsActive p.types (cells_of s.heap) p.variables [] s.activations
  pub jumps : s.mode ≡ mode
  pub deep : depth s.control ≤ length s.masters

-- What is left of the running body while a jump is on its way.
abbrev pub Goes : ProgramForm → Cells → Mode → List (Frame Value) → Type 0
Goes p cells mode k = FitsBehind mode ⊥ (Lands p cells k) (Catches p cells k)

-- The call of an operation of a controlled type ends here, where operands of these kinds wait (7.6, 7.6.1): some type overrides one.
pub data AtOperation (p : ProgramForm) (cells : Cells) (kinds : List OperandKind) : List (Frame Value) → Type 0 where
  awaiting :
      {v : Value} {by : Birth} {done : List PartOf} {of part : ℕ} {tasks : List Task} {k : List (Frame Value)} → (overrides_none p ≡ true → ⊥)
      → IsTreated p.types cells v (frame.begins by done) (performs of part ∷ tasks) → Fits p cells kinds k
      → AtOperation p cells kinds (frame.Awaits v by done of part tasks ∷ k)
  confined : {k : List (Frame Value)} → (overrides_none p ≡ true → ⊥) → Fits p cells kinds k → AtOperation p cells kinds (frame.Confines ∷ k)

-- Where no type overrides an operation, no call of one ends.
pub none_operates : (p : ProgramForm) (cells : Cells) (kinds : List OperandKind) (k : List (Frame Value)) → overrides_none p ≡ true → AtOperation p cells kinds k → ⊥
none_operates p cells kinds _ plain (awaiting some treated fits) = some plain
none_operates p cells kinds _ plain (confined some fits) = some plain

-- What holds of the running body, by the program as it sees it: what is left of it fits, or a jump is on its way; or the call of an operation has ended, or an
-- exception comes out of it.
pub data TypedIn (own : ProgramForm) (s : State) : Type 0 where
  running : (kinds : List OperandKind) → Ready own kinds s → Fits own (cells_of s.heap) kinds s.control → TypedIn own s
  on_jump : (mode : Mode) → Jumps own mode s → Goes own (cells_of s.heap) mode s.control → TypedIn own s
  operated : (kinds : List OperandKind) → Ready own kinds s → AtOperation own (cells_of s.heap) kinds s.control → TypedIn own s
  out_of_operation :
      (e : Exception) (kinds : List OperandKind) → Jumps own (Raising e) s → AtOperation own (cells_of s.heap) kinds s.control → TypedIn own s

-- What the formal parameters hold of the procedure that was found (6.1).
abbrev pub kinds_at : Option BodyForm → List VariableKind
kinds_at None = []
kinds_at (Some b) = formal_kinds b

-- What the formal parameters hold of the body of this procedure: the main body has none.
abbrev pub kinds_in : ProgramForm → (procedure : Option ℕ) → List VariableKind
kinds_in p None = []
kinds_in p (Some number) = kinds_at (slice_get p.bodies number)

-- The actual parameters of the call that ends at a frame.
abbrev pub actuals_at : Frame Value → List ActualForm
actuals_at (frame.Returns actuals references) = actuals
actuals_at f = []

-- What refers there to the components that are given.
abbrev pub references_at : Frame Value → List Value
references_at (frame.Returns actuals references) = references
references_at f = []

-- What holds of an activation that waits for the end of a call with these actual parameters, by the program as its body sees it: no form of it waits for a
-- value, its variables hold values of their kinds, the actual parameters suit formal ones of these kinds, the components are there that get something back,
-- and what is left of its body fits.
pub record Suspended (own : ProgramForm) (cells : Cells) (kinds : List VariableKind) (actuals : List ActualForm) (references : List Value) (k : List (Frame Value)) (a : Activation Value) : Type 0 where
  pub no_operands : a.operands ≡ []
  pub held : AreHeld own.types cells own.variables a.places
  pub suits : actuals_fit own.types own.variables kinds actuals ≡ true
  pub referred : AreReferences own.types cells (stored_kinds kinds actuals) references
  pub fits : Fits own cells [] k

-- So it is of one that waits for the end of the call of an operation: it has computed operands of known kinds (7.6).
pub record Operates (own : ProgramForm) (cells : Cells) (actuals : List ActualForm) (references : List Value) (k : List (Frame Value)) (a : Activation Value) : Type 0 where
  pub no_actuals : actuals ≡ []
  pub no_references : references ≡ []
  pub kinds : List OperandKind
  pub held : AreHeld own.types cells own.variables a.places
  pub computed : AreComputed own.types cells kinds a.operands
  pub awaits : AtOperation own cells kinds k

-- An activation waits for the end of one of both.
pub data WaitsBy (own : ProgramForm) (cells : Cells) (kinds : List VariableKind) (actuals : List ActualForm) (references : List Value) (k : List (Frame Value)) (a : Activation Value) : Type 0 where
  for_call : Suspended own cells kinds actuals references k a → WaitsBy own cells kinds actuals references k a
  for_operation : Operates own cells actuals references k a → WaitsBy own cells kinds actuals references k a

-- The first of these activations waits so for the end of this body's call, behind which this is left to do, and the others wait, too.
abbrev pub WaitsFirst : ProgramForm → Cells → (callee : Option ℕ) → List ActualForm → (references : List Value) → (behind : List (Frame Value)) → List (Activation Value) → (others : Type 0) → Type 0
WaitsFirst p cells callee actuals references k [] others = ⊥
WaitsFirst p cells callee actuals references k (a ∷ suspended) others = WaitsBy (seen_in a.procedure p) cells (kinds_in p callee) actuals references k a × others

-- For each end of a call there is one activation that waits for it, the innermost first (6.4): this body is what runs now.
abbrev pub Waiting : ProgramForm → Cells → (callee : Option ℕ) → List (Frame Value) → (suspended : List (Activation Value)) → Type 0
Waiting p cells callee [] suspended = (suspended ≡ [])
Waiting p cells callee (f ∷ k) suspended =
    AtReturn (is_return f) (WaitsFirst p cells callee (actuals_at f) (references_at f) k suspended (Waiting p cells (procedure_of suspended) k (older suspended))) (Waiting p cells callee k suspended)

-- A state of a run of a well-formed program: what holds of the running body, and of the activations that wait for it.
pub record Typed (p : ProgramForm) (s : State) : Type 0 where
  pub inside : TypedIn (seen_now p s) s
  pub waiting : Waiting p (cells_of s.heap) (procedure_of s.activations) s.control (older s.activations)

-- What holds of the running body.
pub inside_of : (p : ProgramForm) (s : State) → Typed p s → TypedIn (seen_now p s) s
inside_of p s typed = typed.inside

-- Wherever an exception is raised, it finds handlers behind which what is left to do fits, or none.
module _ (p : ProgramForm) where
  pub catches : (cells : Cells) (k : List (Frame Value)) (kinds : List OperandKind) → Fits p cells kinds k → Catches p cells k
  catches cells [] kinds fits = tt
  catches cells (frame.Elaborates ds fs hs ∷ k) kinds fits = catches cells k [] fits.6
  catches cells (frame.Does fs ∷ k) kinds fits = catches cells k [] fits.4
  catches cells (frame.Decides fs branches ∷ k) kinds fits = catches cells k [] fits.5
  catches cells (frame.Repeats condition fs ∷ k) kinds fits = catches cells k [] fits.4
  catches cells (frame.Turns e fs ∷ k) kinds fits = catches cells k [] fits.4
  catches cells (frame.Ranges x fs ∷ k) kinds fits = catches cells k [] fits.4
  catches cells (frame.Counts x value last fs ∷ k) kinds fits = catches cells k [] fits.4
  catches cells (frame.Exits ∷ k) kinds fits = catches cells k [] fits.2
  catches cells (frame.Handles hs ∷ k) kinds fits = (fits.1, fits.2, fits.3, fits.4)
  catches cells (frame.Closes ∷ k) kinds fits = catches cells k kinds fits
  catches cells (frame.Leaves Running ∷ k) kinds fits = catches cells k kinds fits
  catches cells (frame.Leaves (Raising e) ∷ k) kinds fits = fits
  catches cells (frame.Leaves Exiting ∷ k) kinds fits = fits.1
  catches cells (frame.Leaves Returning ∷ k) kinds fits = fits
  catches cells (frame.Calls procedure b actuals ∷ k) kinds fits = catches cells k [] fits.3
  catches cells (frame.Returns actuals references ∷ k) kinds fits = tt
  catches cells (frame.Evaluates right ∷ k) kinds fits = catches cells k (of_kind fits.0 ∷ kinds) fits.2
  catches cells (frame.Computes e ∷ k) kinds fits = catches cells k (of_kind (kind_of fits.0) ∷ kinds) fits.2
  catches cells (frame.Follows cs ∷ k) kinds fits = catches cells k (of_kind fits.2 ∷ fits.0) fits.6
  catches cells (frame.TestsNull equal ∷ k) kinds fits = catches cells k (of_kind variable.Boolean ∷ fits.0) fits.3
  catches cells (frame.Refers q ∷ k) kinds fits = catches cells k (fits.0 ∷ kinds) fits.3
  catches cells (frame.RefersIn place t ∷ k) kinds fits = catches cells k (fits.2 ∷ fits.0) fits.9
  catches cells (frame.Opens path ∷ k) kinds fits = catches cells k (of_kind fits.0 ∷ refers_to fits.0 ∷ kinds) fits.3
  catches cells (frame.OpensIn c ∷ k) kinds fits = catches cells k (of_kind fits.2 ∷ refers_to fits.2 ∷ fits.0) fits.5
  catches cells (frame.Continues links ∷ k) kinds fits = catches cells k (of_kind (kind_of fits.2) ∷ fits.0) fits.5
  catches cells (frame.Applies operator ∷ k) kinds fits = catches cells k (of_kind (kind_of fits.3) ∷ fits.0) fits.6
  catches cells (frame.AppliesAlone operator ∷ k) kinds fits = catches cells k (of_kind (kind_of fits.2) ∷ fits.0) fits.5
  catches cells (frame.Fills items ∷ k) kinds fits = catches cells k (onto fits.0 kinds) fits.2
  catches cells (frame.Copies first t ∷ k) kinds fits = catches cells k (onto fits.2 fits.0) fits.7
  catches cells (frame.Creates access count ∷ k) kinds fits = catches cells k (of_kind (variable.Access (record { 0 = access })) ∷ fits.0) fits.5
  catches cells (frame.Stores x ∷ k) kinds fits = catches cells k fits.0 fits.4
  catches cells (frame.Targets c right ∷ k) kinds fits = catches cells k fits.0 fits.6
  catches cells (frame.StoresIn object c ∷ k) kinds fits = catches cells k fits.0 fits.7
  catches cells (frame.TargetsRecord first t items ∷ k) kinds fits = catches cells k fits.0 fits.7
  catches cells (frame.StoresRecord object first count ∷ k) kinds fits = catches cells k fits.0 fits.8
  catches cells (frame.Assigns t ∷ k) kinds fits = catches cells k fits.0 fits.4
  catches cells (frame.Receives c ∷ k) kinds fits = catches cells k fits.0 fits.4
  catches cells (frame.FreesIn access c ∷ k) kinds fits = catches cells k fits.0 fits.6
  catches cells (frame.Declares x ∷ k) kinds fits = catches cells k fits.0 fits.4
  catches cells (frame.DeclaresRecord x t ∷ k) kinds fits = catches cells k fits.0 fits.8
  catches cells (frame.Treats v treatment tasks ∷ k) kinds fits = catches cells k kinds fits.1
  catches cells (frame.Awaits v by done of part tasks ∷ k) kinds fits = absurd fits
  catches cells (frame.Confines ∷ k) kinds fits = absurd fits
  catches cells (frame.Resumes Running ∷ k) kinds fits = catches cells k kinds fits
  catches cells (frame.Resumes (Raising e) ∷ k) kinds fits = fits
  catches cells (frame.Resumes Exiting ∷ k) kinds fits = fits.1
  catches cells (frame.Resumes Returning ∷ k) kinds fits = fits
  catches cells (frame.Writes ∷ k) kinds fits = catches cells k fits.0 fits.2
  catches cells (frame.Ends v ∷ k) kinds fits = catches cells k kinds fits.1
  catches cells (frame.GivesBack v cause pool ∷ k) kinds fits = catches cells k kinds fits.1
  catches cells (frame.Clears x ∷ k) kinds fits = catches cells k kinds fits.2
  catches cells (frame.ClearsIn object c ∷ k) kinds fits = catches cells k kinds fits.5

  -- So it is behind each frame that it passes.
  pub catches_behind : (cells : Cells) (o : Option HandlersForm) (k : List (Frame Value)) → AtHandlers p o (Lands p cells k) (Fits p cells [] k) (Catches p cells k) → Catches p cells k
  catches_behind cells None k h = h
  catches_behind cells (Some hs) k h = catches cells k [] h.3

-- Of the operands that have been computed for an allocator, the newest are its components, in reverse.
pub next_taken : {X : Type 0} (m : ℕ) (ops : List X) (v : X) (rest : List X) → drop m ops ≡ v ∷ rest → (take (suc m) ops ≡ take m ops ++ v ∷ []) × (drop (suc m) ops ≡ rest)
next_taken zero [] v rest h = absurd (cc)
next_taken zero (x ∷ ops) v rest h = (cc, cc)
next_taken (suc m) [] v rest h = absurd (cc)
next_taken (suc m) (x ∷ ops) v rest h = let later = next_taken m ops v rest h in (ap (λ xs. x ∷ xs) later.0, later.1)

split_next : (types : List TypeForm) (cells : Cells) (c : ComponentKind) (cs : List ComponentKind) (ks : List OperandKind) (m : ℕ) (ops tail : List Value) → drop m ops ≡ tail → HaveKinds types cells cs (reverse (take m ops)) → AreComputed types cells (of_kind (held_kind c) ∷ ks) tail → HaveKinds types cells (c ∷ cs) (reverse (take (suc m) ops)) × AreComputed types cells ks (drop (suc m) ops)
split_next types cells c cs ks m ops [] is h g = absurd g
split_next types cells c cs ks m ops (v ∷ rest) is h g =
    let next = next_taken m ops v rest is in
    let turned : reverse (take (suc m) ops) ≡ v ∷ reverse (take m ops) = ap reverse next.0 ∙ reverse-append (take m ops) (v ∷ []) in
    (subst (λ (vs : List Value). HaveKinds types cells (c ∷ cs) vs) (sym turned) (g.0, h), subst (λ (vs : List Value). AreComputed types cells ks vs) (sym next.1) g.1)

pub split : (types : List TypeForm) (cells : Cells) (cs : List ComponentKind) (ks : List OperandKind) (ops : List Value) → AreComputed types cells (onto cs ks) ops → HaveKinds types cells cs (reverse (take (length cs) ops)) × AreComputed types cells ks (drop (length cs) ops)
split types cells [] ks ops h = (tt, h)
split types cells (c ∷ cs) ks ops h =
    let below = split types cells cs (of_kind (held_kind c) ∷ ks) ops h in
    split_next types cells c cs ks (length cs) ops (drop (length cs) ops) refl below.0 below.1
