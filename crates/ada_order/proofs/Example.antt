-- A program whose blocks nest, and runs of it.

use Rattle.std.proofs.Common.{◌≡◌, ◌≤◌, ℕ, true, false, List, [], ◌∷◌, ◌++◌, length, map, refl, arith}
use Rattle.std.proofs.Math.ListN.{replicate}
use Rattle.std.specs.Prelude.{None, pos, String}
use Rattle.std.specs.List.{filter}
use Rattle.std.specs.Global.{Vec, Global}
use Rattle.ada_text.specs.declared.spot.Spot.{Spot}
use Rattle.ada_program.specs.declared.program.Expression.{Integer}
use Rattle.ada_program.specs.declared.program.Item.TheVariants as item
use Rattle.ada_program.specs.declared.program.Right.TheVariants as right
use Rattle.ada_program.specs.declared.program.Stmt.{Stmt}
use Rattle.ada_program.specs.declared.program.Stmt as stmt
use Rattle.ada_program.specs.declared.program.Path.{Path}
use Rattle.ada_program.specs.declared.program.ComponentKind.TheVariants as component
use Rattle.ada_program.specs.declared.program.Part.{Part}
use Rattle.ada_program.specs.declared.program.PartKind.TheVariants as part
use Rattle.ada_program.specs.declared.program.TypeDefinition.{TypeDefinition}
use Rattle.ada_program.specs.declared.program.TypeDefinition.TheVariants as definition
use Rattle.ada_program.specs.declared.program.Declaration.{Declaration}
use Rattle.ada_program.specs.declared.program.Declaration.TheVariants as declaration
use Rattle.ada_program.specs.declared.program.Variable.{Variable}
use Rattle.ada_program.specs.declared.program.VariableKind.TheVariants as variable
use Rattle.ada_program.specs.declared.program.Program.{Program}
use Rattle.ada_program.specs.Form.{stmt_form, expression_form, stmt_forms, statement_rules, expression_rules}
use Rattle.ada_meaning.specs.declared.event.Halt.TheVariants.{Finished}
use Rattle.ada_meaning.specs.Event.{Left}
use Rattle.ada_meaning.specs.Named.{State, next}
use Rattle.ada_meaning.specs.Run.{Event, Choice, settled, grants, takes, Step, Halts}
use Rattle.ada_order.specs.Example.{InSomeRun, InSomeStep, is_seen, nested_stmts, nested_events, number_of}
use Rattle.ada_order.proofs.Choices.{last, run_by, step_goes_on}
use denote.RawPtr.{null_ptr}

-- So many steps that leave nothing open.
abbrev pub steps : ℕ → List Choice
steps n = replicate n settled

abbrev heap : Global
heap = record { memory = record { seal = tt } }

abbrev pub vec : {X : Type 0} (items : List X) → length items ≤ 8 → Vec X
vec items le = record { ptr = null_ptr; len = length items; cap = length items; alloc = heap; items = items; ok = (refl, omega arith); small = omega (arith, le) }

abbrev pub no_name : String Global
no_name = record { bytes = vec [] (omega arith); ok = ∣ ([], (refl, refl)) ∣₁ }

abbrev pub spot : Spot
spot = record { line = 1; column = 1 }

-- type Cell is record Value : Integer; end record; type A is access Cell; and the same of B and C
abbrev pub access_type : TypeDefinition
access_type = definition.Access no_name (record { 0 = 0 }) None

abbrev pub value : List Part
value = record { name = no_name; kind = part.Elementary (component.Integer (pos 0)); first = record { 0 = 0 }; part = record { 0 = 0 } } ∷ []

abbrev types : List TypeDefinition
types = definition.Record no_name (vec value (omega arith)) (vec (component.Integer (pos 0) ∷ []) (omega arith)) None ∷ access_type ∷ access_type ∷ access_type ∷ []

-- X : A; Y : B; Z : C;
abbrev pub of_type : ℕ → Variable
of_type access = record { name = no_name; spot = spot; kind = variable.Access (record { 0 = access }); borrows = false }

abbrev pub path : ℕ → Path
path x = record { root = record { 0 = x }; of_record = false; selectors = vec [] (omega arith); spot = spot }

-- A variable becomes a new object of an access type.
abbrev pub makes : ℕ → ℕ → Stmt
makes x access = stmt.Assign (path x) (right.Allocator (record { 0 = access }) (vec (item.Value (Integer (pos 7)) ∷ []) (omega arith)))

-- An access type's collection, and a variable of it.
abbrev declared_with : ℕ → ℕ → List Declaration
declared_with x access = declaration.Collection (record { 0 = access }) ∷ declaration.Variable (record { 0 = x }) None ∷ []

abbrev inner : Stmt
inner =
    stmt.Block (vec (declared_with 1 2 ++ declared_with 2 3) (omega arith))
    (vec (makes 1 2 ∷ makes 1 2 ∷ makes 2 3 ∷ stmt.Return spot ∷ []) (omega arith)) (vec [] (omega arith))

abbrev outer : Stmt
outer =
    stmt.Block (vec (declared_with 0 1) (omega arith))
    (vec (makes 0 1 ∷ inner ∷ stmt.PutImage (Integer (pos 0)) ∷ []) (omega arith)) (vec [] (omega arith))

abbrev first_block : Stmt
first_block = stmt.Block (vec [] (omega arith)) (vec (stmt.Null ∷ []) (omega arith)) (vec [] (omega arith))

abbrev pub program : Program
program = record {
  types = vec types (omega arith);
  pools = vec [] (omega arith);
  procedures = vec [] (omega arith);
  variables = vec (of_type 1 ∷ of_type 2 ∷ of_type 3 ∷ []) (omega arith);
  texts = vec [] (omega arith);
  exceptions = vec [] (omega arith);
  declarations = vec [] (omega arith);
  statements = vec (first_block ∷ outer ∷ []) (omega arith);
  handlers = vec [] (omega arith);
}

pub form : stmt_forms program ≡ nested_stmts
form = simp (statement_rules, expression_rules)

-- Up to the leaving of the inner block's last item: the objects are granted, and the newest one of a collection goes first.
abbrev to_inner : List Choice
to_inner = steps 19 ++ grants true ∷ steps 16 ++ grants true ∷ steps 6 ++ grants true ∷ steps 6 ++ grants true ∷ steps 6 ++ takes 0 ∷ steps 4 ++ takes 0 ∷ steps 2 ++ takes 0 ∷ steps 3

pub finishes : InSomeRun program (λ events last. Halts program last Finished × (filter is_seen events ≡ nested_events))
unfolding next expression_form stmt_form
finishes = run_by program [] nested_stmts refl form (to_inner ++ steps 5 ++ takes 0 ∷ steps 8) (λ events last. Halts program last Finished × (filter is_seen events ≡ nested_events)) refl (refl, refl)

-- The next step leaves the inner block.
abbrev LeavesInner : State → Event → Type 0
LeavesInner before event = (event ≡ Left 3) × (map number_of before.masters ≡ 3 ∷ 2 ∷ 0 ∷ [])

pub leaves_inner : InSomeStep program LeavesInner
unfolding next expression_form stmt_form
leaves_inner =
    run_by program [] nested_stmts refl form to_inner (λ events before. (choice : Choice) × (event : Event) × (after : State) × Step program before choice event after × LeavesInner before event) refl
    (let step = step_goes_on program [] refl (last program [] nested_stmts to_inner) (Left 3) refl in (settled, Left 3, step.0, step.1, (refl, refl)))
