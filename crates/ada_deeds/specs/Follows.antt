-- Of which access types the evaluation of a form follows values (4.1).

use Rattle.std.specs.Prelude.{ℕ, Bool, false, ◌||◌, List, [], ◌∷◌, Option, Some, None}
use Rattle.ada_program.specs.declared.program.VariableKind.{VariableKind}
use Rattle.ada_program.specs.Form.{ActualForm, in_value, in_null, in_access, in_record, in_out_path, in_out_access, in_out_component, in_out_record, PathForm, RecordPathForm, ExpressionForm, integer, boolean, reads, is_null, applied_to, chained, LinksForm, no_more_links, a_link}
use Rattle.ada_program.specs.ProgramForm.{TypeForm, VariableForm}
use Rattle.ada_program.specs.WellFormed.{is_this, path_access, selected_kind, value_access, variable_kind}

-- Do selectors follow a value of an access type? Each follows the value before it; the first one behind a record object follows none.
abbrev pub selectors_follow : List TypeForm → (access : ℕ) → Option VariableKind → (selectors : List ℕ) → Bool
selectors_follow types t kind [] = false
selectors_follow types t kind (c ∷ cs) = is_this t (value_access kind) || selectors_follow types t (selected_kind types kind c) cs

-- Does a path?
abbrev pub path_follows : List TypeForm → List VariableForm → (access : ℕ) → PathForm → Bool
path_follows types variables t path = selectors_follow types t (variable_kind variables path.root) path.selectors

-- A path to a record follows the access value to its object, too.
abbrev pub record_path_follows : List TypeForm → List VariableForm → (access : ℕ) → RecordPathForm → Bool
record_path_follows types variables t p = path_follows types variables t p.object || is_this t (path_access types variables p.object)

abbrev mutual
  -- Does the evaluation of an expression?
  pub expression_follows : List TypeForm → List VariableForm → (access : ℕ) → ExpressionForm → Bool
  expression_follows types variables t (integer value) = false
  expression_follows types variables t (boolean value) = false
  expression_follows types variables t (reads path) = path_follows types variables t path
  expression_follows types variables t (is_null equal path) = path_follows types variables t path
  expression_follows types variables t (applied_to operator e) = expression_follows types variables t e
  expression_follows types variables t (chained e links) = expression_follows types variables t e || links_follow types variables t links

  -- Do the right operands of operators?
  pub links_follow : List TypeForm → List VariableForm → (access : ℕ) → LinksForm → Bool
  links_follow types variables t no_more_links = false
  links_follow types variables t (a_link operator e links) = expression_follows types variables t e || links_follow types variables t links

-- Does a condition, where there is one?
abbrev pub condition_follows : List TypeForm → List VariableForm → (access : ℕ) → Option ExpressionForm → Bool
condition_follows types variables t None = false
condition_follows types variables t (Some e) = expression_follows types variables t e

-- Does an actual parameter, where its value is evaluated (6.4.1)?
abbrev pub actual_follows : List TypeForm → List VariableForm → (access : ℕ) → ActualForm → Bool
actual_follows types variables t (in_value e) = expression_follows types variables t e
actual_follows types variables t in_null = false
actual_follows types variables t (in_access path) = path_follows types variables t path
actual_follows types variables t (in_record p) = record_path_follows types variables t p
actual_follows types variables t (in_out_path path) = path_follows types variables t path
actual_follows types variables t (in_out_access path) = path_follows types variables t path
actual_follows types variables t (in_out_component path) = path_follows types variables t path
actual_follows types variables t (in_out_record p) = record_path_follows types variables t p

-- Does one of these actual parameters?
abbrev pub actuals_follow : List TypeForm → List VariableForm → (access : ℕ) → List ActualForm → Bool
actuals_follow types variables t [] = false
actuals_follow types variables t (a ∷ rest) = actual_follows types variables t a || actuals_follow types variables t rest
