-- Programs that assign to components: one meets the premises of the laws, one needs a rule, with runs of them.

use Rattle.std.proofs.Common.{◌≡◌, true, [], ◌∷◌, ◌++◌, refl, arith}
use Rattle.std.specs.Prelude.{Some, pos}
use Rattle.ada_values.specs.declared.operator.BinaryOperator.TheVariants as binary
use Rattle.ada_values.specs.Outcome.{outcome_of}
use Rattle.ada_program.specs.declared.program.Expression.{Integer, Path as Reads}
use Rattle.ada_program.specs.declared.program.Right.TheVariants as right
use Rattle.ada_program.specs.declared.program.Stmt.{Stmt}
use Rattle.ada_program.specs.declared.program.Stmt as stmt
use Rattle.ada_program.specs.declared.program.Program.{Program}
use Rattle.ada_program.specs.Form.{expression_form, stmt_form, stmt_forms, no_handlers, statement_rules, expression_rules}
use Rattle.ada_flow.specs.declared.rule.Rule.TheVariants.{LostValue}
use Rattle.ada_flow.specs.Flow.{uses_in}
use Rattle.ada_meaning.specs.declared.event.Halt.TheVariants.{Finished, Erroneous}
use Rattle.ada_meaning.specs.declared.event.Why.TheVariants.{FollowsGone}
use Rattle.ada_meaning.specs.Named.{next}
use Rattle.ada_meaning.specs.Run.{grants, takes}
use Rattle.ada_sound.specs.Always.{IsChecked, FinishesAfter, Breaks, HaltsAfter}
use Rattle.ada_sound.specs.Examples.{filling_stmts, filling_events, storing_stmts, storing_events}
use Rattle.ada_sound.proofs.Choices.{halts_after, accepted_by, breaks_by}
use Rattle.ada_sound.proofs.Example.{steps, vec, spot, program_of, with_number, y, value_of_x, x_is_seven, y_is_x}

-- X := new Cell'(Value => 7); Get (X.Value);
-- while X.Value < 7 loop X.Value := X.Value + 1; end loop; Put_Line (Integer'Image (X.Value));
abbrev filling_loop : Stmt
filling_loop =
    stmt.Loop (Some (with_number binary.Less 7 (Reads value_of_x)))
    (vec (stmt.Assign value_of_x (right.Value (with_number binary.Add 1 (Reads value_of_x))) ∷ []) (omega arith)) spot

abbrev pub filling : Program
filling = program_of (x_is_seven ∷ stmt.Get value_of_x ∷ filling_loop ∷ stmt.PutImage (Reads value_of_x) ∷ []) (omega arith)

pub filling_form : stmt_forms filling ≡ filling_stmts
filling_form = simp (statement_rules, expression_rules)

pub filling_accepted : IsChecked filling
unfolding expression_form stmt_form uses_in
filling_accepted = accepted_by filling filling_stmts no_handlers filling_form refl _ _ refl refl refl

-- Two turns.
pub fills : FinishesAfter filling_events filling
unfolding next outcome_of expression_form stmt_form uses_in
fills = halts_after filling filling_stmts no_handlers filling_form refl (pos 5 ∷ []) (steps 13 ++ grants true ∷ steps 58 ++ takes 0 ∷ steps 4) filling_events Finished refl refl refl

-- X := new Cell'(Value => 7); Y := X; Free (Y); X.Value := 1;
abbrev pub storing : Program
storing = program_of (x_is_seven ∷ y_is_x ∷ stmt.Free (record { 0 = 1 }) y ∷ stmt.Assign value_of_x (right.Value (Integer (pos 1))) ∷ []) (omega arith)

pub storing_form : stmt_forms storing ≡ storing_stmts
storing_form = simp (statement_rules, expression_rules)

pub storing_breaks : Breaks LostValue storing
unfolding expression_form stmt_form uses_in
storing_breaks = breaks_by storing storing_stmts no_handlers storing_form refl LostValue spot refl refl refl

-- What is freed by the one variable would be assigned to by the other.
pub stores : HaltsAfter storing_events (Erroneous FollowsGone) storing
unfolding next expression_form stmt_form uses_in
stores = halts_after storing storing_stmts no_handlers storing_form refl [] (steps 13 ++ grants true ∷ steps 9) storing_events (Erroneous FollowsGone) refl refl refl
