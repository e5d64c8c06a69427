-- A program that copies records of Integers as wholes and meets the premises of the laws, and one that copies a record with an access value, with
-- runs of them.

use Rattle.std.proofs.Common.{◌≡◌, ◌≤◌, ℕ, true, false, List, [], ◌∷◌, ◌++◌, length, refl, arith}
use Rattle.std.specs.Prelude.{Some, None, pos}
use Rattle.ada_program.specs.declared.program.Expression.{Integer, Path as Reads}
use Rattle.ada_program.specs.declared.program.Item.{Item}
use Rattle.ada_program.specs.declared.program.Item.TheVariants as item
use Rattle.ada_program.specs.declared.program.Right.TheVariants as right
use Rattle.ada_program.specs.declared.program.Stmt.{Stmt}
use Rattle.ada_program.specs.declared.program.Stmt as stmt
use Rattle.ada_program.specs.declared.program.ComponentKind.TheVariants as component
use Rattle.ada_program.specs.declared.program.Path.{Path}
use Rattle.ada_program.specs.declared.program.RecordPath.{RecordPath}
use Rattle.ada_program.specs.declared.program.TypeDefinition.{TypeDefinition}
use Rattle.ada_program.specs.declared.program.TypeDefinition.TheVariants as definition
use Rattle.ada_program.specs.declared.program.Declaration.{Declaration}
use Rattle.ada_program.specs.declared.program.Declaration.TheVariants as declaration
use Rattle.ada_program.specs.declared.program.Variable.{Variable}
use Rattle.ada_program.specs.declared.program.VariableKind.TheVariants as variable
use Rattle.ada_program.specs.declared.program.Program.{Program}
use Rattle.ada_program.specs.Form.{expression_form, stmt_forms, declaration_forms, no_handlers, statement_rules, expression_rules}
use Rattle.ada_flow.specs.declared.rule.Rule.TheVariants.{RecordCopied}
use Rattle.ada_flow.specs.Flow.{uses_in}
use Rattle.ada_meaning.specs.declared.event.Halt.TheVariants.{Finished, Erroneous}
use Rattle.ada_meaning.specs.declared.event.Why.TheVariants.{FollowsGone}
use Rattle.ada_meaning.specs.Named.{next}
use Rattle.ada_meaning.specs.Run.{grants, takes}
use Rattle.ada_sound.specs.Always.{IsChecked, FinishesAfter, Breaks, HaltsAfter}
use Rattle.ada_sound.specs.RecordExamples.{copying_declarations, copying_stmts, copying_events, duplicating_stmts, duplicating_events}
use Rattle.ada_sound.proofs.Choices.{halts_after, accepted_by, breaks_by}
use Rattle.ada_sound.proofs.Example.{steps, vec, no_name, spot, link}
use Rattle.ada_sound.proofs.ExampleOwners.{record_of, access_to, an_integer, an_access, path, whole, part}

-- A record object of this number, a component of it, and the record that it is; and the record to which a variable gives access.
abbrev pub object : ℕ → Path
object x = record (whole x) { of_record = true }

abbrev pub of_object : ℕ → ℕ → Path
of_object x c = record (part x c) { of_record = true }

abbrev pub record_at : Path → RecordPath
record_at p = record { object = p; first = record { 0 = 0 }; part = record { 0 = 0 }; «record» = record { 0 = 0 } }

-- R := T'(..);
abbrev assigns_items : Path → (items : List Item) → length items ≤ 8 → Stmt
assigns_items p items le = stmt.AssignRecord (record_at p) (vec items le)

abbrev pub news : Path → (items : List Item) → length items ≤ 8 → Stmt
news p items le = stmt.Assign p (right.Allocator (record { 0 = 1 }) (vec items le))

abbrev pub of_object_type : ℕ → Variable
of_object_type t = record { name = no_name; spot = spot; kind = variable.Record (record { 0 = t }); borrows = false }

-- type Point is record X : Integer := 5; Y : Integer := 6; end record; type Link is access Point; R : Point; S : Point := R; P : Link;
abbrev point_types : List TypeDefinition
point_types =
    record_of (component.Integer (pos 5) ∷ component.Integer (pos 6) ∷ []) (omega arith) ∷ access_to 0 ∷ definition.Object (record { 0 = 0 })
    ∷ definition.Object (record { 0 = 0 }) ∷ []

abbrev copying_all_declarations : List Declaration
copying_all_declarations =
    declaration.Collection (record { 0 = 1 }) ∷ declaration.Record (record { 0 = 0 }) (record { 0 = 2 }) None
    ∷ declaration.Record (record { 0 = 1 }) (record { 0 = 3 }) (Some (vec (item.Record (record_at (object 0)) ∷ []) (omega arith)))
    ∷ declaration.Variable (record { 0 = 2 }) None ∷ []

-- P := new Point'(R); R := Point'(7, 8); Put_Line (Integer'Image (R.Y)); R := P.all; Put_Line (Integer'Image (R.Y));
abbrev copying_all : List Stmt
copying_all =
    news (whole 2) (item.Record (record_at (object 0)) ∷ []) (omega arith)
    ∷ assigns_items (object 0) (item.Value (Integer (pos 7)) ∷ item.Value (Integer (pos 8)) ∷ []) (omega arith)
    ∷ stmt.PutImage (Reads (of_object 0 1))
    ∷ assigns_items (object 0) (item.Record (record_at (whole 2)) ∷ []) (omega arith)
    ∷ stmt.PutImage (Reads (of_object 0 1))
    ∷ []

abbrev pub copying : Program
copying = record {
  types = vec point_types (omega arith);
  pools = vec [] (omega arith);
  procedures = vec [] (omega arith);
  variables = vec (of_object_type 2 ∷ of_object_type 3 ∷ link ∷ []) (omega arith);
  texts = vec [] (omega arith);
  exceptions = vec [] (omega arith);
  declarations = vec copying_all_declarations (omega arith);
  statements = vec copying_all (omega arith);
  handlers = vec [] (omega arith);
}

pub copying_form : stmt_forms copying ≡ copying_stmts
copying_form = simp (statement_rules, expression_rules)

pub copying_declares : declaration_forms copying ≡ copying_declarations
copying_declares = refl

pub copying_accepted : IsChecked copying
unfolding expression_form uses_in
copying_accepted = accepted_by copying copying_stmts no_handlers copying_form refl _ _ refl refl refl

-- The records are copied where they are declared, allocated and assigned.
pub copies : FinishesAfter copying_events copying
unfolding next expression_form
copies =
    halts_after copying copying_stmts no_handlers copying_form refl []
    (steps 16 ++ grants true ∷ steps 25 ++ takes 0 ∷ steps 3 ++ takes 0 ∷ steps 3 ++ takes 0 ∷ steps 4) copying_events Finished refl refl refl

-- type Node is record Value : Integer; Next : Link; end record; type Link is access Node; R, S : Node;
-- R.Next := new Node'(1, null); S := R; Free (R.Next); Put_Line (Integer'Image (S.Next.Value));
abbrev node_object_types : List TypeDefinition
node_object_types =
    record_of (an_integer ∷ an_access 1 ∷ []) (omega arith) ∷ access_to 0 ∷ definition.Object (record { 0 = 0 }) ∷ definition.Object (record { 0 = 0 }) ∷ []

abbrev duplicating_declarations : List Declaration
duplicating_declarations =
    declaration.Collection (record { 0 = 1 }) ∷ declaration.Record (record { 0 = 0 }) (record { 0 = 2 }) None
    ∷ declaration.Record (record { 0 = 1 }) (record { 0 = 3 }) None ∷ []

abbrev duplicating_all : List Stmt
duplicating_all =
    news (of_object 0 1) (item.Value (Integer (pos 1)) ∷ item.Null ∷ []) (omega arith)
    ∷ assigns_items (object 1) (item.Record (record_at (object 0)) ∷ []) (omega arith)
    ∷ stmt.Free (record { 0 = 1 }) (of_object 0 1)
    ∷ stmt.PutImage (Reads (record (path 1 (record { 0 = 1 } ∷ record { 0 = 0 } ∷ []) (omega arith)) { of_record = true }))
    ∷ []

abbrev pub duplicating : Program
duplicating = record {
  types = vec node_object_types (omega arith);
  pools = vec [] (omega arith);
  procedures = vec [] (omega arith);
  variables = vec (of_object_type 2 ∷ of_object_type 3 ∷ []) (omega arith);
  texts = vec [] (omega arith);
  exceptions = vec [] (omega arith);
  declarations = vec duplicating_declarations (omega arith);
  statements = vec duplicating_all (omega arith);
  handlers = vec [] (omega arith);
}

pub duplicating_form : stmt_forms duplicating ≡ duplicating_stmts
duplicating_form = simp (statement_rules, expression_rules)

pub duplicating_breaks : Breaks RecordCopied duplicating
unfolding expression_form uses_in
duplicating_breaks = breaks_by duplicating duplicating_stmts no_handlers duplicating_form refl RecordCopied spot refl refl refl

-- What is freed by way of one record would be followed by way of its copy.
pub duplicates : HaltsAfter duplicating_events (Erroneous FollowsGone) duplicating
unfolding next expression_form
duplicates =
    halts_after duplicating duplicating_stmts no_handlers duplicating_form refl [] (steps 11 ++ grants true ∷ steps 14) duplicating_events
    (Erroneous FollowsGone) refl refl refl
