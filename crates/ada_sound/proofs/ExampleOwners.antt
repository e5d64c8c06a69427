-- Programs whose components own: one meets the premises of the laws, others break one of them, with runs of them.

use Rattle.std.proofs.Common.{◌≡◌, ◌≤◌, ℕ, true, false, List, [], ◌∷◌, ◌++◌, length, refl, arith}
use Rattle.std.specs.Prelude.{Some, None, pos}
use Rattle.ada_program.specs.declared.program.ComponentNo.{ComponentNo}
use Rattle.ada_program.specs.declared.program.Expression.{Integer, Path as Reads, NullTest}
use Rattle.ada_program.specs.declared.program.Item.{Item}
use Rattle.ada_program.specs.declared.program.Item.TheVariants as item
use Rattle.ada_program.specs.declared.program.Right.TheVariants as right
use Rattle.ada_program.specs.declared.program.Stmt.{Stmt}
use Rattle.ada_program.specs.declared.program.Stmt as stmt
use Rattle.ada_program.specs.declared.program.Path.{Path}
use Rattle.ada_program.specs.declared.program.ComponentKind.{ComponentKind}
use Rattle.ada_program.specs.declared.program.ComponentKind.TheVariants as component
use Rattle.ada_program.specs.declared.program.TypeDefinition.{TypeDefinition}
use Rattle.ada_program.specs.declared.program.TypeDefinition.TheVariants as definition
use Rattle.ada_program.specs.declared.program.Declaration.{Declaration}
use Rattle.ada_program.specs.declared.program.Declaration.TheVariants as declaration
use Rattle.ada_program.specs.declared.program.Variable.{Variable}
use Rattle.ada_program.specs.declared.program.VariableKind.TheVariants as variable
use Rattle.ada_program.specs.declared.program.Program.{Program}
use Rattle.ada_program.specs.Form.{expression_form, stmt_forms, no_handlers, statement_rules, expression_rules}
use Rattle.ada_flow.specs.declared.rule.Rule.TheVariants.{LostValue, TakePair}
use Rattle.ada_flow.specs.Flow.{uses_in}
use Rattle.ada_meaning.specs.declared.event.Halt.TheVariants.{Finished, Erroneous}
use Rattle.ada_meaning.specs.declared.event.Why.TheVariants.{FollowsGone, EndsTwice}
use Rattle.ada_meaning.specs.Named.{next}
use Rattle.ada_meaning.specs.Run.{grants, takes}
use Rattle.ada_sound.specs.Always.{IsChecked, FinishesAfter, Breaks, IsIllNested, HaltsAfter}
use Rattle.ada_sound.specs.OwnerExamples.{default_stmts, default_events, record_stmts, record_events, owning_stmts, owning_events, pairing_stmts, pairing_events, items_stmts, items_events, outlasting_stmts, outlasting_events}
use Rattle.ada_sound.proofs.Choices.{halts_after, accepted_by, breaks_by, ill_nested_by}
use Rattle.ada_sound.proofs.Example.{steps, vec, no_name, spot, link, declarations}

-- A record type, of whose declared components nothing here speaks, and an access type.
abbrev pub record_of : (components : List ComponentKind) → length components ≤ 8 → TypeDefinition
record_of components le = definition.Record no_name (vec [] (omega arith)) (vec components le) None

abbrev pub access_to : ℕ → TypeDefinition
access_to designated = definition.Access no_name (record { 0 = designated }) None

abbrev pub an_integer : ComponentKind
an_integer = component.Integer (pos 0)

abbrev pub an_access : ℕ → ComponentKind
an_access access = component.Access (record { 0 = access })

-- A program with X, Y : Link; where the types are these
abbrev program_with : (types : List TypeDefinition) → length types ≤ 8 → (statements : List Stmt) → length statements ≤ 8 → Program
program_with types few statements le = record {
  types = vec types few;
  pools = vec [] (omega arith);
  procedures = vec [] (omega arith);
  variables = vec (link ∷ link ∷ []) (omega arith);
  texts = vec [] (omega arith);
  exceptions = vec [] (omega arith);
  declarations = vec declarations (omega arith);
  statements = vec statements le;
  handlers = vec [] (omega arith);
}

-- A path: a variable, and components behind it.
abbrev pub path : ℕ → (selectors : List ComponentNo) → length selectors ≤ 8 → Path
path x selectors le = record { root = record { 0 = x }; of_record = false; selectors = vec selectors le; spot = spot }

abbrev pub whole : ℕ → Path
whole x = path x [] (omega arith)

abbrev pub part : ℕ → ℕ → Path
part x c = path x (record { 0 = c } ∷ []) (omega arith)

-- P := null; P := Q; X := new T'(..); Free (X);
abbrev pub clears : Path → Stmt
clears p = stmt.Assign p right.Null

abbrev pub moves : Path → Path → Stmt
moves p q = stmt.Assign p (right.Path q)

abbrev news : (x access : ℕ) → (items : List Item) → length items ≤ 8 → Stmt
news x access items le = stmt.Assign (whole x) (right.Allocator (record { 0 = access }) (vec items le))

abbrev pub frees : ℕ → Stmt
frees x = stmt.Free (record { 0 = 1 }) (whole x)

-- type Node is record Value : Integer; Next : Link; end record; type Link is access Node; Head, Rest : Link;
abbrev pub node_types : List TypeDefinition
node_types = record_of (an_integer ∷ an_access 1 ∷ []) (omega arith) ∷ access_to 0 ∷ []

-- Head := new Node'(n, Head);
abbrev pub pushing : ℕ → Stmt
pushing n = news 0 1 (item.Value (Integer (pos n)) ∷ item.Path (whole 0) ∷ []) (omega arith)

-- while Head /= null loop
--    Put_Line (Integer'Image (Head.Value)); Rest := Head.Next; Head.Next := null; Free (Head); Head := Rest; Rest := null;
-- end loop;
abbrev owning_turn : List Stmt
owning_turn =
    stmt.PutImage (Reads (part 0 0))
    ∷ moves (whole 1) (part 0 1)
    ∷ clears (part 0 1)
    ∷ frees 0
    ∷ moves (whole 0) (whole 1)
    ∷ clears (whole 1)
    ∷ []

abbrev pub owning : Program
owning =
    program_with node_types (omega arith)
    (pushing 1 ∷ pushing 2 ∷ stmt.Loop (Some (NullTest (whole 0) false)) (vec owning_turn (omega arith)) spot ∷ []) (omega arith)

pub owning_form : stmt_forms owning ≡ owning_stmts
owning_form = simp (statement_rules, expression_rules)

pub owning_accepted : IsChecked owning
unfolding expression_form uses_in
owning_accepted = accepted_by owning owning_stmts no_handlers owning_form refl _ _ refl refl refl

-- Two turns, one for each node.
pub owns : FinishesAfter owning_events owning
unfolding next expression_form
owns = halts_after owning owning_stmts no_handlers owning_form refl [] (steps 14 ++ grants true ∷ steps 7 ++ grants true ∷ steps 63) owning_events Finished refl refl refl

-- Head := new Node'(1, Head); Head := new Node'(2, Head); Rest := Head.Next; Free (Rest); Put_Line (Integer'Image (Head.Next.Value));
abbrev pub pairing : Program
pairing =
    program_with node_types (omega arith)
    (pushing 1 ∷ pushing 2 ∷ moves (whole 1) (part 0 1) ∷ frees 1
    ∷ stmt.PutImage (Reads (path 0 (record { 0 = 1 } ∷ record { 0 = 0 } ∷ []) (omega arith))) ∷ []) (omega arith)

pub pairing_form : stmt_forms pairing ≡ pairing_stmts
pairing_form = simp (statement_rules, expression_rules)

pub pairing_breaks : Breaks TakePair pairing
unfolding expression_form uses_in
pairing_breaks = breaks_by pairing pairing_stmts no_handlers pairing_form refl TakePair spot refl refl refl

-- What is freed by the variable would be followed by way of the component.
pub pairs : HaltsAfter pairing_events (Erroneous FollowsGone) pairing
unfolding next expression_form
pairs =
    halts_after pairing pairing_stmts no_handlers pairing_form refl [] (steps 14 ++ grants true ∷ steps 7 ++ grants true ∷ steps 10)
    pairing_events (Erroneous FollowsGone) refl refl refl

-- type Tree is record Left, Right : Link; end record; type Link is access Tree; X, Y : Link;
abbrev tree_types : List TypeDefinition
tree_types = record_of (an_access 1 ∷ an_access 1 ∷ []) (omega arith) ∷ access_to 0 ∷ []

-- X := new Tree'(null, null); Y := new Tree'(X, X);
-- X := Y.Left; Y.Left := null; Free (X); X := Y.Right; Y.Right := null; Free (X);
abbrev pub sharing : Program
sharing =
    program_with tree_types (omega arith)
    (news 0 1 (item.Null ∷ item.Null ∷ []) (omega arith) ∷ news 1 1 (item.Path (whole 0) ∷ item.Path (whole 0) ∷ []) (omega arith)
    ∷ moves (whole 0) (part 1 0) ∷ clears (part 1 0) ∷ frees 0 ∷ moves (whole 0) (part 1 1) ∷ clears (part 1 1) ∷ frees 0 ∷ []) (omega arith)

pub sharing_form : stmt_forms sharing ≡ items_stmts
sharing_form = simp statement_rules

pub sharing_breaks : Breaks LostValue sharing
unfolding expression_form uses_in
sharing_breaks = breaks_by sharing items_stmts no_handlers sharing_form refl LostValue spot refl refl refl

-- Each of two components is taken and freed, and both named one object.
pub shares : HaltsAfter items_events (Erroneous EndsTwice) sharing
unfolding next expression_form
shares =
    halts_after sharing items_stmts no_handlers sharing_form refl [] (steps 13 ++ grants true ∷ steps 6 ++ grants true ∷ steps 19)
    items_events (Erroneous EndsTwice) refl refl refl

-- type Cell is record Value : Integer; end record; type Node is record Cell : Inner; end record; type Link is access Node; X : Link;
-- declare type Inner is access Cell; Y : Inner; begin Y := new Cell'(Value => 8); X := new Node'(Cell => Y); end;
abbrev outlasting_types : List TypeDefinition
outlasting_types = record_of (an_integer ∷ []) (omega arith) ∷ record_of (an_access 3 ∷ []) (omega arith) ∷ access_to 1 ∷ access_to 0 ∷ []

abbrev pub of_access : ℕ → Variable
of_access access = record { name = no_name; spot = spot; kind = variable.Access (record { 0 = access }); borrows = false }

abbrev created : (access x : ℕ) → List Declaration
created access x = declaration.Collection (record { 0 = access }) ∷ declaration.Variable (record { 0 = x }) None ∷ []

abbrev outlasting_block : Stmt
outlasting_block =
    stmt.Block (vec (created 3 1) (omega arith))
    (vec (news 1 3 (item.Value (Integer (pos 8)) ∷ []) (omega arith) ∷ news 0 2 (item.Path (whole 1) ∷ []) (omega arith) ∷ []) (omega arith))
    (vec [] (omega arith))

-- The block, and behind it Put_Line (Integer'Image (X.Cell.Value));
abbrev outlasting_all : List Stmt
outlasting_all = outlasting_block ∷ stmt.PutImage (Reads (path 0 (record { 0 = 0 } ∷ record { 0 = 0 } ∷ []) (omega arith))) ∷ []

abbrev pub outlasting : Program
outlasting = record {
  types = vec outlasting_types (omega arith);
  pools = vec [] (omega arith);
  procedures = vec [] (omega arith);
  variables = vec (of_access 2 ∷ of_access 3 ∷ []) (omega arith);
  texts = vec [] (omega arith);
  exceptions = vec [] (omega arith);
  declarations = vec (created 2 0) (omega arith);
  statements = vec outlasting_all (omega arith);
  handlers = vec [] (omega arith);
}

pub outlasting_form : stmt_forms outlasting ≡ outlasting_stmts
outlasting_form = simp (statement_rules, expression_rules)

pub outlasting_ill_nested : IsIllNested outlasting
unfolding expression_form uses_in
outlasting_ill_nested = ill_nested_by outlasting outlasting_stmts no_handlers outlasting_form refl _ _ refl refl refl refl

-- What is behind the block follows the component of the node that stays.
pub outlasts : HaltsAfter outlasting_events (Erroneous FollowsGone) outlasting
unfolding next expression_form
outlasts =
    halts_after outlasting outlasting_stmts no_handlers outlasting_form refl [] (steps 16 ++ grants true ∷ steps 5 ++ grants true ∷ steps 5 ++ takes 0 ∷ steps 6)
    outlasting_events (Erroneous FollowsGone) refl refl refl

-- type Node is record Value : Integer := 5; Next : Link; end record;
-- Head := new Node; Head.Next := new Node; Put_Line (Integer'Image (Head.Next.Value));
abbrev five_types : List TypeDefinition
five_types = record_of (component.Integer (pos 5) ∷ an_access 1 ∷ []) (omega arith) ∷ access_to 0 ∷ []

abbrev default_news : Path → Stmt
default_news p = stmt.Assign p (right.Default (record { 0 = 1 }))

abbrev pub defaulting : Program
defaulting =
    program_with five_types (omega arith)
    (default_news (whole 0) ∷ default_news (part 0 1) ∷ stmt.PutImage (Reads (path 0 (record { 0 = 1 } ∷ record { 0 = 0 } ∷ []) (omega arith))) ∷ []) (omega arith)

pub defaulting_form : stmt_forms defaulting ≡ default_stmts
defaulting_form = simp (statement_rules, expression_rules)

pub defaulting_accepted : IsChecked defaulting
unfolding expression_form uses_in
defaulting_accepted = accepted_by defaulting default_stmts no_handlers defaulting_form refl _ _ refl refl refl

pub defaults : FinishesAfter default_events defaulting
unfolding next expression_form
defaults =
    halts_after defaulting default_stmts no_handlers defaulting_form refl []
    (steps 10 ++ grants true ∷ steps 4 ++ grants true ∷ steps 10 ++ takes 0 ∷ steps 2 ++ takes 0 ∷ steps 4)
    default_events Finished refl refl refl

-- R.C, where R is the record object of number 0.
abbrev of_r : ℕ → Path
of_r c = record (part 0 c) { of_record = true }

-- type Node is record Value : Integer := 5; Next : Link; end record; R : Node; X : Link;
abbrev record_types : List TypeDefinition
record_types = five_types ++ definition.Object (record { 0 = 0 }) ∷ []

abbrev record_variables : List Variable
record_variables = record { name = no_name; spot = spot; kind = variable.Record (record { 0 = 2 }); borrows = false } ∷ link ∷ []

abbrev record_declarations : List Declaration
record_declarations =
    declaration.Collection (record { 0 = 1 }) ∷ declaration.Record (record { 0 = 0 }) (record { 0 = 2 }) None ∷ declaration.Variable (record { 0 = 1 }) None ∷ []

-- R.Next := new Node; X := R.Next; R.Next := null; Put_Line (Integer'Image (R.Value)); Free (X);
abbrev record_all : List Stmt
record_all = default_news (of_r 1) ∷ moves (whole 1) (of_r 1) ∷ clears (of_r 1) ∷ stmt.PutImage (Reads (of_r 0)) ∷ frees 1 ∷ []

abbrev pub recording : Program
recording = record {
  types = vec record_types (omega arith);
  pools = vec [] (omega arith);
  procedures = vec [] (omega arith);
  variables = vec record_variables (omega arith);
  texts = vec [] (omega arith);
  exceptions = vec [] (omega arith);
  declarations = vec record_declarations (omega arith);
  statements = vec record_all (omega arith);
  handlers = vec [] (omega arith);
}

pub recording_form : stmt_forms recording ≡ record_stmts
recording_form = simp (statement_rules, expression_rules)

pub recording_accepted : IsChecked recording
unfolding expression_form uses_in
recording_accepted = accepted_by recording record_stmts no_handlers recording_form refl _ _ refl refl refl

pub records : FinishesAfter record_events recording
unfolding next expression_form
records =
    halts_after recording record_stmts no_handlers recording_form refl []
    (steps 9 ++ grants true ∷ steps 19 ++ takes 0 ∷ steps 5)
    record_events Finished refl refl refl
