-- Programs with a borrower: one meets the premises of the laws, others break one of the rules, with runs of them.

use Rattle.std.proofs.Common.{◌≡◌, ◌≤◌, true, false, List, [], ◌∷◌, ◌++◌, length, refl, arith}
use Rattle.std.specs.Prelude.{Some, None}
use Rattle.std.specs.Global.{Vec}
use Rattle.ada_program.specs.declared.program.Expression.{Path as Reads, NullTest}
use Rattle.ada_program.specs.declared.program.Stmt.{Stmt}
use Rattle.ada_program.specs.declared.program.Stmt as stmt
use Rattle.ada_program.specs.declared.program.Declaration.{Declaration}
use Rattle.ada_program.specs.declared.program.Declaration.TheVariants as declaration
use Rattle.ada_program.specs.declared.program.Variable.{Variable}
use Rattle.ada_program.specs.declared.program.Program.{Program}
use Rattle.ada_program.specs.Form.{expression_form, stmt_forms, no_handlers, statement_rules, expression_rules}
use Rattle.ada_flow.specs.declared.rule.Rule.TheVariants.{LostValue, TakePair}
use Rattle.ada_flow.specs.Flow.{uses_in}
use Rattle.ada_meaning.specs.declared.event.Halt.TheVariants.{Finished, Erroneous}
use Rattle.ada_meaning.specs.declared.event.Why.TheVariants.{FollowsGone}
use Rattle.ada_meaning.specs.Named.{next}
use Rattle.ada_meaning.specs.Run.{grants, takes}
use Rattle.ada_sound.specs.Always.{IsChecked, FinishesAfter, Breaks, HaltsAfter}
use Rattle.ada_sound.specs.BorrowerExamples.{HasBorrower, walking_stmts, walking_events, lending_stmts, lending_events, dangling_stmts, dangling_events, overtaking_stmts, overtaking_events}
use Rattle.ada_sound.proofs.Choices.{halts_after, accepted_by, breaks_by}
use Rattle.ada_sound.proofs.Example.{steps, vec, heap, spot, link, declarations}
use Rattle.ada_sound.proofs.ExampleOwners.{node_types, whole, part, clears, moves as gives, frees, pushing}
use denote.RawPtr.{null_ptr}

-- A list of nine at most.
abbrev longer : {X : Type 0} (items : List X) → length items ≤ 9 → Vec X
longer items le = record { ptr = null_ptr; len = length items; cap = length items; alloc = heap; items = items; ok = (refl, omega arith); small = omega (arith, le) }

-- B : access Node;
abbrev borrower : Variable
borrower = record link { borrows = true }

-- Head, Rest : Link; B : access Node;
abbrev borrower_declarations : List Declaration
borrower_declarations = declarations ++ declaration.Variable (record { 0 = 2 }) None ∷ []

abbrev pub program_with : (statements : List Stmt) → length statements ≤ 9 → Program
program_with statements le = record {
  types = vec node_types (omega arith);
  pools = vec [] (omega arith);
  procedures = vec [] (omega arith);
  variables = vec (link ∷ link ∷ borrower ∷ []) (omega arith);
  texts = vec [] (omega arith);
  exceptions = vec [] (omega arith);
  declarations = vec borrower_declarations (omega arith);
  statements = longer statements le;
  handlers = vec [] (omega arith);
}

-- B := Head;
abbrev pub b_is_head : Stmt
b_is_head = gives (whole 2) (whole 0)

-- while B /= null loop Put_Line (Integer'Image (B.Value)); B := B.Next; end loop;
abbrev walking_turn : List Stmt
walking_turn = stmt.PutImage (Reads (part 2 0)) ∷ gives (whole 2) (part 2 1) ∷ []

abbrev pub walking_loop : Stmt
walking_loop = stmt.Loop (Some (NullTest (whole 2) false)) (vec walking_turn (omega arith)) spot

-- Head := new Node'(1, Head); Head := new Node'(2, Head); B := Head; and the loop.
abbrev pub walking : Program
walking = program_with (pushing 1 ∷ pushing 2 ∷ b_is_head ∷ walking_loop ∷ []) (omega arith)

pub walking_form : stmt_forms walking ≡ walking_stmts
walking_form = simp (statement_rules, expression_rules)

pub walking_borrows : HasBorrower walking
walking_borrows = refl

pub walking_accepted : IsChecked walking
unfolding expression_form uses_in
walking_accepted = accepted_by walking walking_stmts no_handlers walking_form refl _ _ refl refl refl

-- Two turns, one for each node.
pub walks : FinishesAfter walking_events walking
unfolding next expression_form
walks =
    halts_after walking walking_stmts no_handlers walking_form refl []
    (steps 17 ++ grants true ∷ steps 7 ++ grants true ∷ steps 37 ++ takes 0 ∷ steps 2 ++ takes 0 ∷ steps 4) walking_events Finished refl refl refl

-- Head := new Node'(1, Head); while B = null loop B := Head; end loop; Put_Line (Integer'Image (B.Value));
abbrev pub lending : Program
lending =
    program_with
    (pushing 1 ∷ stmt.Loop (Some (NullTest (whole 2) true)) (vec (b_is_head ∷ []) (omega arith)) spot ∷ stmt.PutImage (Reads (part 2 0)) ∷ []) (omega arith)

pub lending_form : stmt_forms lending ≡ lending_stmts
lending_form = simp (statement_rules, expression_rules)

pub lending_borrows : HasBorrower lending
lending_borrows = refl

pub lending_accepted : IsChecked lending
unfolding expression_form uses_in
lending_accepted = accepted_by lending lending_stmts no_handlers lending_form refl _ _ refl refl refl

-- One turn.
pub lends : FinishesAfter lending_events lending
unfolding next expression_form
lends = halts_after lending lending_stmts no_handlers lending_form refl [] (steps 17 ++ grants true ∷ steps 23 ++ takes 0 ∷ steps 4) lending_events Finished refl refl refl

-- Head := new Node'(1, Head); B := Head; Free (Head); Put_Line (Integer'Image (B.Value));
abbrev pub dangling : Program
dangling = program_with (pushing 1 ∷ b_is_head ∷ frees 0 ∷ stmt.PutImage (Reads (part 2 0)) ∷ []) (omega arith)

pub dangling_form : stmt_forms dangling ≡ dangling_stmts
dangling_form = simp (statement_rules, expression_rules)

pub dangling_borrows : HasBorrower dangling
dangling_borrows = refl

pub dangling_breaks : Breaks LostValue dangling
unfolding expression_form uses_in
dangling_breaks = breaks_by dangling dangling_stmts no_handlers dangling_form refl LostValue spot refl refl refl

-- What is freed by its owner would be followed by the borrower.
pub dangles : HaltsAfter dangling_events (Erroneous FollowsGone) dangling
unfolding next expression_form
dangles =
    halts_after dangling dangling_stmts no_handlers dangling_form refl [] (steps 17 ++ grants true ∷ steps 9) dangling_events (Erroneous FollowsGone)
    refl refl refl

-- Head := new Node'(1, Head); Head := new Node'(2, Head); B := Head; Head := Head.Next; Head.Next := null;
-- Rest := B.Next; B.Next := null; Free (Rest); Put_Line (Integer'Image (Head.Value));
abbrev pub overtaking : Program
overtaking =
    program_with
    (pushing 1 ∷ pushing 2 ∷ b_is_head ∷ gives (whole 0) (part 0 1) ∷ clears (part 0 1) ∷ gives (whole 1) (part 2 1) ∷ clears (part 2 1) ∷ frees 1
    ∷ stmt.PutImage (Reads (part 0 0)) ∷ []) (omega arith)

pub overtaking_form : stmt_forms overtaking ≡ overtaking_stmts
overtaking_form = simp (statement_rules, expression_rules)

pub overtaking_borrows : HasBorrower overtaking
overtaking_borrows = refl

pub overtaking_breaks : Breaks TakePair overtaking
unfolding expression_form uses_in
overtaking_breaks = breaks_by overtaking overtaking_stmts no_handlers overtaking_form refl TakePair spot refl refl refl

-- Head owns what the first node's Next still names, and that is freed by way of the borrower.
pub overtakes : HaltsAfter overtaking_events (Erroneous FollowsGone) overtaking
unfolding next expression_form
overtakes =
    halts_after overtaking overtaking_stmts no_handlers overtaking_form refl [] (steps 17 ++ grants true ∷ steps 7 ++ grants true ∷ steps 23)
    overtaking_events (Erroneous FollowsGone) refl refl refl
