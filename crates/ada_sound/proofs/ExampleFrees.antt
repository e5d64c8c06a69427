-- Programs that assign a new object to the component that it takes the place of, or that free a component: some meet the premises of the laws, others
-- break one of the rules, with runs of them.

use Rattle.std.proofs.Common.{◌≡◌, ◌≤◌, ℕ, true, List, [], ◌∷◌, ◌++◌, length, refl, arith}
use Rattle.std.specs.Prelude.{None, pos}
use Rattle.ada_program.specs.declared.program.Expression.{Integer, Path as Reads}
use Rattle.ada_program.specs.declared.program.Item.{Item}
use Rattle.ada_program.specs.declared.program.Item.TheVariants as item
use Rattle.ada_program.specs.declared.program.Right.TheVariants as right
use Rattle.ada_program.specs.declared.program.Stmt.{Stmt}
use Rattle.ada_program.specs.declared.program.Stmt as stmt
use Rattle.ada_program.specs.declared.program.Path.{Path}
use Rattle.ada_program.specs.declared.program.TypeDefinition.{TypeDefinition}
use Rattle.ada_program.specs.declared.program.Declaration.{Declaration}
use Rattle.ada_program.specs.declared.program.Declaration.TheVariants as declaration
use Rattle.ada_program.specs.declared.program.Variable.{Variable}
use Rattle.ada_program.specs.declared.program.Program.{Program}
use Rattle.ada_program.specs.Form.{expression_form, stmt_forms, no_handlers, statement_rules, expression_rules}
use Rattle.ada_flow.specs.declared.rule.Rule.TheVariants.{TakePair, UnsafePath}
use Rattle.ada_flow.specs.Flow.{uses_in}
use Rattle.ada_meaning.specs.declared.event.Halt.TheVariants.{Finished, Erroneous}
use Rattle.ada_meaning.specs.declared.event.Why.TheVariants.{FollowsGone}
use Rattle.ada_meaning.specs.Named.{next}
use Rattle.ada_meaning.specs.Run.{grants, takes}
use Rattle.ada_sound.specs.Always.{IsChecked, FinishesAfter, Breaks, HaltsAfter}
use Rattle.ada_sound.specs.BorrowerExamples.{HasBorrower}
use Rattle.ada_sound.specs.FreeExamples.{inserting_stmts, inserting_events, freeing_stmts, freeing_events, passing_stmts, passing_events, doubling_stmts, doubling_events}
use Rattle.ada_sound.proofs.Choices.{halts_after, accepted_by, breaks_by}
use Rattle.ada_sound.proofs.Example.{steps, vec, spot, link}
use Rattle.ada_sound.proofs.ExampleOwners.{record_of, access_to, an_integer, an_access, of_access, path, whole, part, clears, moves as gives, pushing}
use Rattle.ada_sound.proofs.ExampleBorrowers.{program_with, b_is_head, walking_loop}

-- P := new T'(..);
abbrev pub news : Path → (access : ℕ) → (items : List Item) → length items ≤ 8 → Stmt
news p access items le = stmt.Assign p (right.Allocator (record { 0 = access }) (vec items le))

-- Free (P);
abbrev frees : Path → Stmt
frees p = stmt.Free (record { 0 = 1 }) p

-- Head.Next := new Node'(n, Head.Next);
abbrev pub inserting : ℕ → Stmt
inserting n = news (part 0 1) 1 (item.Value (Integer (pos n)) ∷ item.Path (part 0 1) ∷ []) (omega arith)

-- Head := new Node'(1, Head); Head.Next := new Node'(2, Head.Next); Head.Next := new Node'(3, Head.Next);
-- B := Head; while B /= null loop Put_Line (Integer'Image (B.Value)); B := B.Next; end loop;
abbrev pub insertion : Program
insertion = program_with (pushing 1 ∷ inserting 2 ∷ inserting 3 ∷ b_is_head ∷ walking_loop ∷ []) (omega arith)

pub insertion_form : stmt_forms insertion ≡ inserting_stmts
insertion_form = simp (statement_rules, expression_rules)

pub insertion_borrows : HasBorrower insertion
insertion_borrows = refl

pub insertion_accepted : IsChecked insertion
unfolding expression_form uses_in
insertion_accepted = accepted_by insertion inserting_stmts no_handlers insertion_form refl _ _ refl refl refl

-- Three turns, one for each node.
pub inserts : FinishesAfter inserting_events insertion
unfolding next expression_form
inserts =
    halts_after insertion inserting_stmts no_handlers insertion_form refl []
    (steps 17 ++ grants true ∷ steps 8 ++ grants true ∷ steps 8 ++ grants true ∷ steps 48 ++ takes 0 ∷ steps 2 ++ takes 0 ∷ steps 2 ++ takes 0 ∷ steps 4)
    inserting_events Finished refl refl refl

-- type Leaf is record Value : Integer; end record; type Leaf_Link is access Leaf;
-- type Node is record Value : Integer; Down : Leaf_Link; end record; type Link is access Node; Head : Link; Item : Leaf_Link;
abbrev leaf_types : List TypeDefinition
leaf_types =
    record_of (an_integer ∷ []) (omega arith) ∷ access_to 0 ∷ record_of (an_integer ∷ an_access 1 ∷ []) (omega arith) ∷ access_to 2 ∷ []

abbrev leaf_declarations : List Declaration
leaf_declarations =
    declaration.Collection (record { 0 = 1 }) ∷ declaration.Collection (record { 0 = 3 }) ∷ declaration.Variable (record { 0 = 0 }) None
    ∷ declaration.Variable (record { 0 = 1 }) None ∷ []

-- Item := new Leaf'(Value => 7); Head := new Node'(1, Item);
-- Free_Leaf (Head.Down); Free_Leaf (Head.Down); Put_Line (Integer'Image (Head.Value));
abbrev freeing_all : List Stmt
freeing_all =
    news (whole 1) 1 (item.Value (Integer (pos 7)) ∷ []) (omega arith)
    ∷ news (whole 0) 3 (item.Value (Integer (pos 1)) ∷ item.Path (whole 1) ∷ []) (omega arith)
    ∷ frees (part 0 1)
    ∷ frees (part 0 1)
    ∷ stmt.PutImage (Reads (part 0 0))
    ∷ []

abbrev pub freeing : Program
freeing = record {
  types = vec leaf_types (omega arith);
  pools = vec [] (omega arith);
  procedures = vec [] (omega arith);
  variables = vec (of_access 3 ∷ of_access 1 ∷ []) (omega arith);
  texts = vec [] (omega arith);
  exceptions = vec [] (omega arith);
  declarations = vec leaf_declarations (omega arith);
  statements = vec freeing_all (omega arith);
  handlers = vec [] (omega arith);
}

pub freeing_form : stmt_forms freeing ≡ freeing_stmts
freeing_form = simp (statement_rules, expression_rules)

pub freeing_accepted : IsChecked freeing
unfolding expression_form uses_in
freeing_accepted = accepted_by freeing freeing_stmts no_handlers freeing_form refl _ _ refl refl refl

-- The first Free gives the leaf back, and the second one finds null.
pub frees_components : FinishesAfter freeing_events freeing
unfolding next expression_form
frees_components =
    halts_after freeing freeing_stmts no_handlers freeing_form refl [] (steps 14 ++ grants true ∷ steps 7 ++ grants true ∷ steps 16 ++ takes 0 ∷ steps 5)
    freeing_events Finished refl refl refl

-- Head := new Node'(1, null); B := Head; Head.Next := Head; Free (B.Next);
abbrev pub passing : Program
passing =
    program_with
    (news (whole 0) 1 (item.Value (Integer (pos 1)) ∷ item.Null ∷ []) (omega arith) ∷ b_is_head ∷ gives (part 0 1) (whole 0) ∷ frees (part 2 1) ∷ [])
    (omega arith)

pub passing_form : stmt_forms passing ≡ passing_stmts
passing_form = simp (statement_rules, expression_rules)

pub passing_borrows : HasBorrower passing
passing_borrows = refl

pub passing_breaks : Breaks UnsafePath passing
unfolding expression_form uses_in
passing_breaks = breaks_by passing passing_stmts no_handlers passing_form refl UnsafePath spot refl refl refl

-- What is freed is the object in which the component lies that is to become null.
pub passes : HaltsAfter passing_events (Erroneous FollowsGone) passing
unfolding next expression_form
passes =
    halts_after passing passing_stmts no_handlers passing_form refl [] (steps 17 ++ grants true ∷ steps 12) passing_events (Erroneous FollowsGone)
    refl refl refl

-- Head, Rest, Last : Link;
-- Head := new Node'(1, Head); Head := new Node'(2, Head); Rest := new Node'(3, Head.Next);
-- Last := Rest.Next; Rest.Next := null; Free (Last); Put_Line (Integer'Image (Head.Next.Value));
abbrev owners : List Variable
owners = link ∷ link ∷ link ∷ []

abbrev doubling_all : List Stmt
doubling_all =
    pushing 1
    ∷ pushing 2
    ∷ news (whole 1) 1 (item.Value (Integer (pos 3)) ∷ item.Path (part 0 1) ∷ []) (omega arith)
    ∷ gives (whole 2) (part 1 1)
    ∷ clears (part 1 1)
    ∷ frees (whole 2)
    ∷ stmt.PutImage (Reads (path 0 (record { 0 = 1 } ∷ record { 0 = 0 } ∷ []) (omega arith)))
    ∷ []

abbrev pub doubling : Program
doubling = record (program_with doubling_all (omega arith)) { variables = vec owners (omega arith) }

pub doubling_form : stmt_forms doubling ≡ doubling_stmts
doubling_form = simp (statement_rules, expression_rules)

pub doubling_breaks : Breaks TakePair doubling
unfolding expression_form uses_in
doubling_breaks = breaks_by doubling doubling_stmts no_handlers doubling_form refl TakePair spot refl refl refl

-- What one component gave away and was freed would be followed by way of the other.
pub doubles : HaltsAfter doubling_events (Erroneous FollowsGone) doubling
unfolding next expression_form
doubles =
    halts_after doubling doubling_stmts no_handlers doubling_form refl []
    (steps 17 ++ grants true ∷ steps 7 ++ grants true ∷ steps 7 ++ grants true ∷ steps 14) doubling_events (Erroneous FollowsGone) refl refl refl
