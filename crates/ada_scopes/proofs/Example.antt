-- Programs whose collections nest and runs of them; and a program whose collections do not.

use Rattle.std.proofs.Common.{◌≡◌, ◌≤◌, ◌<◌, ◌==◌, ◌+◌, ℕ, zero, suc, Bool, true, false, List, [], ◌∷◌, ◌++◌, length, map, refl, sym, ap, ◌∙◌, subst, arith, inl, inr}
use Rattle.std.proofs.Math.ListN.{replicate}
use Rattle.std.proofs.lemmas.Bool.{eq-eqb}
use Rattle.std.specs.Prelude.{Option, None, Some, pos, String}
use Rattle.std.specs.List.{list_all, slice_index_or}
use Rattle.std.specs.Global.{Vec, Global}
use Rattle.ada_program.specs.declared.program.Item.{Item as AllocatorItem}
use Rattle.ada_program.specs.declared.program.Item.TheVariants as item
use Rattle.ada_program.specs.declared.program.Right.TheVariants as right
use Rattle.ada_program.specs.declared.program.Stmt.{Stmt}
use Rattle.ada_program.specs.declared.program.Stmt as stmt
use Rattle.ada_program.specs.declared.program.ComponentKind.{ComponentKind}
use Rattle.ada_program.specs.declared.program.ComponentKind.TheVariants as kind
use Rattle.ada_program.specs.declared.program.Part.{Part}
use Rattle.ada_program.specs.declared.program.PartKind.TheVariants as part
use Rattle.ada_program.specs.declared.program.TypeDefinition.{TypeDefinition}
use Rattle.ada_program.specs.declared.program.TypeDefinition.TheVariants as definition
use Rattle.ada_program.specs.declared.program.Declaration.{Declaration}
use Rattle.ada_program.specs.declared.program.Declaration.TheVariants as declaration
use Rattle.ada_program.specs.declared.program.TypeNo.{TypeNo}
use Rattle.ada_program.specs.declared.program.Variable.{Variable}
use Rattle.ada_program.specs.declared.program.VariableKind.TheVariants as variable
use Rattle.ada_program.specs.declared.program.Program.{Program}
use Rattle.ada_program.specs.Form.{expression_form, stmt_form, allocates, null_item, skips, calls, encloses, StmtsForm, no_stmts, a_stmt, no_handlers, DeclarationForm, collects, declares, declaration_forms, stmt_forms, handler_forms, statement_rules}
use Rattle.ada_program.specs.ProgramForm.{BodyForm, variable_form, body_forms, program_form}
use Rattle.ada_program.specs.WellFormed.{Creation, created_in_all, profile_of, bodies_fit, creation, created_by_all, created_by_handlers, creates_from, has_collections, creates_known_pool, IsWellFormed, stmts_fit}
use Rattle.ada_program.specs.Nested.{callees_from, collected, statements_nest, CollectionsNest}
use Rattle.ada_meaning.specs.declared.state.Id.{Id}
use Rattle.ada_meaning.specs.State.{Owned, declared, collection, record_object, storage_pool, Item}
use Rattle.ada_meaning.specs.Named.{Object, State, next}
use Rattle.ada_meaning.specs.Run.{Choice, settled, grants}
use Rattle.ada_order.specs.Example.{InSomeRun}
use Rattle.ada_order.proofs.Choices.{run_by}
use Rattle.ada_scopes.specs.Scopes.{OperationsNest, OperationsFindOpen, IsListed, HoldsNames, IsOutlived, ComponentsAreOutlivedIn}
use Rattle.ada_scopes.specs.Example.{HoldsNearAndFar, HasObjectAbove, OutlastsTarget}
use Rattle.ada_scopes.proofs.Operations.{none_nests, none_open}
use Rattle.ada_scopes.proofs.Counts.{one, times, opened_by, opened}
use denote.RawPtr.{null_ptr}

-- So many steps that leave nothing open.
abbrev pub steps : ℕ → List Choice
steps n = replicate n settled

abbrev pub heap : Global
heap = record { memory = record { seal = tt } }

abbrev pub vec : {X : Type 0} (items : List X) → length items ≤ 8 → Vec X
vec items le = record { ptr = null_ptr; len = length items; cap = length items; alloc = heap; items = items; ok = (refl, omega arith); small = omega (arith, le) }

abbrev pub no_name : String Global
no_name = record { bytes = vec [] (omega arith); ok = ∣ ([], (refl, refl)) ∣₁ }

-- Components from a number on; one that holds access values; a record type; an access type; and a variable of one.
abbrev pub parts_from : ℕ → List ComponentKind → List Part
parts_from number [] = []
parts_from number (held ∷ others) =
    record { name = no_name; kind = part.Elementary held; first = record { 0 = number }; part = record { 0 = 0 } } ∷ parts_from (number + 1) others

abbrev pub access_kind : ℕ → ComponentKind
access_kind access = kind.Access (record { 0 = access })

abbrev pub cell_of : (components : List ComponentKind) → length (parts_from 0 components) ≤ 8 → length components ≤ 8 → TypeDefinition
cell_of components few le = definition.Record no_name (vec (parts_from 0 components) few) (vec components le) None

abbrev pub access_to : ℕ → TypeDefinition
access_to designated = definition.Access no_name (record { 0 = designated }) None

abbrev pub of_type : ℕ → Variable
of_type access = record { name = no_name; spot = record { line = 1; column = 1 }; kind = variable.Access (record { 0 = access }); borrows = false }

-- A variable with a new object, all of whose components are null.
abbrev with_nulls : (x access : ℕ) (items : List AllocatorItem) → length items ≤ 8 → Declaration
with_nulls x access items le = declaration.Variable (record { 0 = x }) (Some (right.Allocator (record { 0 = access }) (vec items le)))

-- declare .. begin null; end;
abbrev pub block_with : (ds : List Declaration) → length ds ≤ 8 → Stmt
block_with ds le = stmt.Block (vec ds le) (vec (stmt.Null ∷ []) (omega arith)) (vec [] (omega arith))

abbrev pub block_form : List DeclarationForm → StmtsForm
block_form ds = a_stmt (encloses ds (a_stmt skips no_stmts) no_handlers) no_stmts

-- type Cell is record Value : Integer; end record; type Far is access Cell; X : Far;
-- begin declare type Link; type Near is access Link; type Link is record Cell : Far; Next : Near; end record; Y : Near := new Link'(null, null); ..
abbrev pub nested : Program
nested = record {
  types = vec (cell_of (kind.Integer (pos 0) ∷ []) (omega arith) (omega arith) ∷ access_to 0 ∷ cell_of (access_kind 1 ∷ access_kind 3 ∷ []) (omega arith) (omega arith) ∷ access_to 2 ∷ []) (omega arith);
  pools = vec [] (omega arith);
  procedures = vec [] (omega arith);
  variables = vec (of_type 1 ∷ of_type 3 ∷ []) (omega arith);
  texts = vec [] (omega arith);
  exceptions = vec [] (omega arith);
  declarations = vec (declaration.Collection (record { 0 = 1 }) ∷ declaration.Variable (record { 0 = 0 }) None ∷ []) (omega arith);
  statements = vec (block_with (declaration.Collection (record { 0 = 3 }) ∷ with_nulls 1 3 (item.Null ∷ item.Null ∷ []) (omega arith) ∷ []) (omega arith) ∷ []) (omega arith);
  handlers = vec [] (omega arith);
}

abbrev nested_forms : StmtsForm
nested_forms = block_form (collects 3 ∷ declares 1 (allocates 3 (null_item ∷ null_item ∷ [])) ∷ [])

nested_are : stmt_forms nested ≡ nested_forms
nested_are = simp statement_rules

-- What a program creates, with these statements.
abbrev pub creations_with : Program → StmtsForm → List Creation
creations_with program fs = map creation (declaration_forms program) ++ created_by_all fs ++ created_by_handlers (handler_forms program)

-- These creations create no pool.
abbrev pub no_pools : List Creation → Bool
no_pools creations = list_all (creates_known_pool 0) creations

abbrev fits_with : Program → StmtsForm → Bool
fits_with program fs = stmts_fit (program_form program).types (program_form program).variables (program_form program).texts (program_form program).exceptions [] false fs

pub nested_operations : OperationsNest (program_form nested)
nested_operations = none_nests (program_form nested) refl

pub nested_well_formed : IsWellFormed (program_form nested)
nested_well_formed = record {
  types_fit = refl;
  components_lie = refl;
  operations_fit = refl;
  pools_fit = ap (λ (fs : StmtsForm). no_pools (creations_with nested fs)) nested_are;
  variables_fit = refl;
  creates_in_order = ap (λ (fs : StmtsForm). creates_from 2 0 (creations_with nested fs)) nested_are;
  collections_first = refl;
  collections_fit = refl;
  has_one_each = ap (λ (fs : StmtsForm). has_collections (creations_with nested fs) 0 (program_form nested).types) nested_are;
  initials_fit = refl;
  statements_fit = ap (fits_with nested) nested_are;
  handlers_fit = refl;
  bodies_fit = refl;
}

pub nested_nests : CollectionsNest (program_form nested)
nested_nests = record {
  declarations = refl;
  statements = ap (λ (fs : StmtsForm). statements_nest (program_form nested).types [] (collected (program_form nested).declarations) fs) nested_are;
  handlers = refl;
}

-- The object of the block has been allocated.
pub holds_both : InSomeRun nested (λ events last. HoldsNearAndFar nested last)
unfolding next expression_form stmt_form
holds_both =
    run_by nested [] nested_forms refl nested_are (steps 12 ++ grants true ∷ []) (λ events last. HoldsNearAndFar nested last) refl
    (record {
      block = _;
      main = _;
      o = record { 0 = 0 };
      object = _;
      far = record { 0 = 1 };
      near = record { 0 = 3 };
      entered = refl;
      listed = (refl, refl);
      first = refl;
      second = refl;
      far_is_open = (_, _, (1, omega arith, refl), refl);
      near_is_open = (_, _, (0, omega arith, refl), refl);
    })

-- Its variable has been created.
pub object_above : InSomeRun nested (λ events last. HasObjectAbove last)
unfolding next expression_form stmt_form
object_above =
    run_by nested [] nested_forms refl nested_are (steps 12 ++ grants true ∷ settled ∷ []) (λ events last. HasObjectAbove last) refl
    (record { variable = 1; access = 3; pool = Some 0; m = _; ms = _; entered = refl; owns = refl })

-- type Cell is record Value : Integer; end record; type Far is access Cell; X : Far;
-- procedure P is type Link; type Near is access Link; .. Y : Near := new Link'(null, null); begin null; end; begin P; end;
abbrev pub calling : Program
calling = record {
  types = nested.types;
  pools = nested.pools;
  procedures = vec (record {
    formals = vec [] (omega arith);
    variables = vec (of_type 3 ∷ []) (omega arith);
    declarations = vec (declaration.Collection (record { 0 = 3 }) ∷ with_nulls 0 3 (item.Null ∷ item.Null ∷ []) (omega arith) ∷ []) (omega arith);
    statements = vec (stmt.Null ∷ []) (omega arith);
    handlers = vec [] (omega arith);
    start = record { line = 1; column = 1 };
    end = record { line = 1; column = 1 };
  } ∷ []) (omega arith);
  variables = vec (of_type 1 ∷ []) (omega arith);
  texts = vec [] (omega arith);
  exceptions = vec [] (omega arith);
  declarations = nested.declarations;
  statements = vec (stmt.Call (record { 0 = 0 }) (vec [] (omega arith)) ∷ []) (omega arith);
  handlers = vec [] (omega arith);
}

abbrev calling_forms : StmtsForm
calling_forms = a_stmt (calls 0 []) no_stmts

abbrev calling_bodies : List BodyForm
calling_bodies = record {
  formals = [];
  variables = map variable_form (of_type 3 ∷ []);
  declarations = collects 3 ∷ declares 0 (allocates 3 (null_item ∷ null_item ∷ [])) ∷ [];
  statements = a_stmt skips no_stmts;
  handlers = no_handlers;
  start_spot = record { line = 1; column = 1 };
  end_spot = record { line = 1; column = 1 };
} ∷ []

pub calling_are : stmt_forms calling ≡ calling_forms
calling_are = simp statement_rules

bodies_are : body_forms calling ≡ calling_bodies
bodies_are = simp statement_rules

-- What holds of these bodies and statements holds of the program.
of_both : (test : List BodyForm → StmtsForm → Bool) → test calling_bodies calling_forms ≡ true → test (body_forms calling) (stmt_forms calling) ≡ true
of_both test is = rw (bodies_are, calling_are) is

pub calling_operations : OperationsNest (program_form calling)
calling_operations = none_nests (program_form calling) refl

pub calling_well_formed : IsWellFormed (program_form calling)
calling_well_formed = record {
  types_fit = refl;
  components_lie = refl;
  operations_fit = refl;
  pools_fit = of_both (λ bs fs. no_pools (created_in_all bs ++ creations_with calling fs)) refl;
  variables_fit = refl;
  creates_in_order = ap (λ (fs : StmtsForm). creates_from 1 0 (creations_with calling fs)) calling_are;
  collections_first = refl;
  collections_fit = refl;
  has_one_each = of_both (λ bs fs. has_collections (created_in_all bs ++ creations_with calling fs) 0 (program_form calling).types) refl;
  initials_fit = refl;
  statements_fit = of_both
      (λ bs fs. stmts_fit (program_form calling).types (program_form calling).variables [] [] (map profile_of bs) false fs) refl;
  handlers_fit = refl;
  bodies_fit = ap (bodies_fit (program_form calling).types [] [] []) bodies_are;
}

pub calling_nests : CollectionsNest (program_form calling)
calling_nests = record {
  declarations = refl;
  statements = of_both
      (λ bs fs. statements_nest (program_form calling).types (callees_from (program_form calling).types [] bs) (collected (program_form calling).declarations) fs)
      refl;
  handlers = refl;
}

-- The object of the procedure's body has been allocated.
pub body_holds_both : InSomeRun calling (λ events last. HoldsNearAndFar calling last)
unfolding next expression_form stmt_form
body_holds_both =
    run_by calling calling_bodies calling_forms bodies_are calling_are (steps 13 ++ grants true ∷ []) (λ events last. HoldsNearAndFar calling last) refl
    (record {
      block = _;
      main = _;
      o = record { 0 = 0 };
      object = _;
      far = record { 0 = 1 };
      near = record { 0 = 3 };
      entered = refl;
      listed = (refl, refl);
      first = refl;
      second = refl;
      far_is_open = (_, _, (1, omega arith, refl), refl);
      near_is_open = (_, _, (0, omega arith, refl), refl);
    })

-- type Near; type Link is record Next : Near; end record; type Far is access Link; X : Far := new Link'(null);
-- begin declare type Cell is record Value : Integer; end record; type Near is access Cell; ..
abbrev pub loose : Program
loose = record {
  types = vec (cell_of (access_kind 2 ∷ []) (omega arith) (omega arith) ∷ access_to 0 ∷ access_to 3 ∷ cell_of (kind.Integer (pos 0) ∷ []) (omega arith) (omega arith) ∷ []) (omega arith);
  pools = vec [] (omega arith);
  procedures = vec [] (omega arith);
  variables = vec (of_type 1 ∷ []) (omega arith);
  texts = vec [] (omega arith);
  exceptions = vec [] (omega arith);
  declarations = vec (declaration.Collection (record { 0 = 1 }) ∷ with_nulls 0 1 (item.Null ∷ []) (omega arith) ∷ []) (omega arith);
  statements = vec (block_with (declaration.Collection (record { 0 = 2 }) ∷ []) (omega arith) ∷ []) (omega arith);
  handlers = vec [] (omega arith);
}

abbrev loose_forms : StmtsForm
loose_forms = block_form (collects 2 ∷ [])

loose_are : stmt_forms loose ≡ loose_forms
loose_are = simp statement_rules

pub loose_operations : OperationsFindOpen (program_form loose)
loose_operations = none_open (program_form loose) refl

pub loose_well_formed : IsWellFormed (program_form loose)
loose_well_formed = record {
  types_fit = refl;
  components_lie = refl;
  operations_fit = refl;
  pools_fit = ap (λ (fs : StmtsForm). no_pools (creations_with loose fs)) loose_are;
  variables_fit = refl;
  creates_in_order = ap (λ (fs : StmtsForm). creates_from 1 0 (creations_with loose fs)) loose_are;
  collections_first = refl;
  collections_fit = refl;
  has_one_each = ap (λ (fs : StmtsForm). has_collections (creations_with loose fs) 0 (program_form loose).types) loose_are;
  initials_fit = refl;
  statements_fit = ap (fits_with loose) loose_are;
  handlers_fit = refl;
  bodies_fit = refl;
}

-- An item that is a collection is counted.
opened_one : (t : ℕ) (i : Item) (pool : Option ℕ) (is : List Item) → i.owned ≡ collection t pool → 1 ≤ times t (opened (i ∷ is))
opened_one t i pool is own =
    let found : one (t == t) ≡ 1 = ap one (eq-eqb t t refl) in
    let here : 1 ≤ times t (opened_by (collection t pool) (opened is)) = omega (arith, found) in
    subst (λ (o : Owned). 1 ≤ times t (opened_by o (opened is))) (sym own) here

opened_more : (t : ℕ) (owned : Owned) (us : List ℕ) → 1 ≤ times t us → 1 ≤ times t (opened_by owned us)
opened_more t (declared x) us le = le
opened_more t (record_object u) us le = le
opened_more t (storage_pool declaration number) us le = le
opened_more t (collection access pool) us le = omega (arith, le)

pub contains_opened : (t : ℕ) (is : List Item) (i : Item) (pool : Option ℕ) (k : ℕ) → k < length is → slice_index_or is k i ≡ i → i.owned ≡ collection t pool → 1 ≤ times t (opened is)
contains_opened t [] i pool k lt at own = absurd (omega (arith, lt))
contains_opened t (j ∷ is) i pool zero lt at own = opened_one t j pool is (ap (λ (x : Item). x.owned) at ∙ own)
contains_opened t (j ∷ is) i pool (suc k) lt at own = opened_more t j.owned (opened is) (contains_opened t is i pool k (omega (arith, lt)) at own)

-- What this object's component names does not last as long.
abbrev IsShort : State → Type 0
IsShort s =
    (o : Id) × (object : Object) × (c : ℕ) × (target : TypeNo) × IsListed s.heap o object × HoldsNames (program_form loose).types object.cell.access c target × (IsOutlived s object target.0 → ⊥)

-- What the main procedure owns.
abbrev main_items : List Item
main_items = record { number = 1; owned = declared 0 } ∷ record { number = 0; owned = collection 1 (Some 0) } ∷ []

-- The block's collection has been created.
is_short : InSomeRun loose (λ events last. IsShort last)
unfolding next expression_form stmt_form
is_short =
    run_by loose [] loose_forms refl loose_are (steps 5 ++ grants true ∷ steps 4) (λ events last. IsShort last) refl
    (record { 0 = 0 }, _, 0, record { 0 = 2 }, (refl, refl), refl, λ outlived. elim outlived [ inl going ↦ cc going | inr found ↦ omega (arith, contains_opened 2 main_items found.0 found.1 found.2.0 found.2.1 found.2.2 found.3) ])

pub not_outlived : ComponentsAreOutlivedIn loose → ⊥
not_outlived all =
    let run = is_short in
    let short = run.4 in
    short.6 (all run.0 run.1 run.2 run.3 short.0 short.1 short.2 short.3 short.4 short.5)

-- type Link; type Far is access Link; type Cell is record Value : Integer; end record; type Near is access Cell;
-- type Link is record Next : Near; end record; X : Far := new Link'(null);
abbrev pub passing : Program
passing = record {
  types = vec (cell_of (access_kind 2 ∷ []) (omega arith) (omega arith) ∷ access_to 0 ∷ access_to 3 ∷ cell_of (kind.Integer (pos 0) ∷ []) (omega arith) (omega arith) ∷ []) (omega arith);
  pools = vec [] (omega arith);
  procedures = vec [] (omega arith);
  variables = vec (of_type 1 ∷ []) (omega arith);
  texts = vec [] (omega arith);
  exceptions = vec [] (omega arith);
  declarations = vec (declaration.Collection (record { 0 = 1 }) ∷ declaration.Collection (record { 0 = 2 }) ∷ with_nulls 0 1 (item.Null ∷ []) (omega arith) ∷ []) (omega arith);
  statements = vec (stmt.Null ∷ []) (omega arith);
  handlers = vec [] (omega arith);
}

abbrev passing_forms : StmtsForm
passing_forms = a_stmt skips no_stmts

passing_are : stmt_forms passing ≡ passing_forms
passing_are = simp statement_rules

pub passing_operations : OperationsFindOpen (program_form passing)
passing_operations = none_open (program_form passing) refl

pub passing_well_formed : IsWellFormed (program_form passing)
passing_well_formed = record {
  types_fit = refl;
  components_lie = refl;
  operations_fit = refl;
  pools_fit = ap (λ (fs : StmtsForm). no_pools (creations_with passing fs)) passing_are;
  variables_fit = refl;
  creates_in_order = ap (λ (fs : StmtsForm). creates_from 1 0 (creations_with passing fs)) passing_are;
  collections_first = refl;
  collections_fit = refl;
  has_one_each = ap (λ (fs : StmtsForm). has_collections (creations_with passing fs) 0 (program_form passing).types) passing_are;
  initials_fit = refl;
  statements_fit = ap (fits_with passing) passing_are;
  handlers_fit = refl;
  bodies_fit = refl;
}

pub passing_nests : CollectionsNest (program_form passing)
passing_nests = record {
  declarations = refl;
  statements = ap (λ (fs : StmtsForm). statements_nest (program_form passing).types [] (collected (program_form passing).declarations) fs) passing_are;
  handlers = refl;
}

-- What the main procedure owns once its newest collection is gone.
abbrev oldest_item : List Item
oldest_item = record { number = 0; owned = collection 1 (Some 0) } ∷ []

-- The variable and that collection are gone.
pub outlasts : InSomeRun passing (λ events last. OutlastsTarget passing last)
unfolding next expression_form stmt_form
outlasts =
    run_by passing [] passing_forms refl passing_are (steps 6 ++ grants true ∷ steps 8) (λ events last. OutlastsTarget passing last) refl
    (record {
      o = record { 0 = 0 };
      object = _;
      c = 0;
      target = record { 0 = 2 };
      listed = (refl, refl);
      names = refl;
      gone = λ found. omega (arith, contains_opened 2 oldest_item found.0 found.1 found.2.0 found.2.1 found.2.2 found.3);
    })
