-- Which exceptions may be raised: what asks for fewer finds fewer, and operators raise only what they may.

use Rattle.std.proofs.Common.{◌≡◌, ℕ, zero, suc, Bool, true, false, ◌&&◌, ◌||◌, not, List, [], ◌∷◌, ◌++◌, refl, ap}
use Rattle.std.proofs.lemmas.Bool.{eqb-true, eq-eqb}
use Rattle.std.specs.Prelude.{ℤ, Option, Some, None, Result, Ok, Err}
use Rattle.std.specs.List.{list_any, slice_get}
use Rattle.ada_values.specs.declared.operator.UnaryOperator.{UnaryOperator}
use Rattle.ada_values.specs.declared.operator.UnaryOperator.TheVariants as unary
use Rattle.ada_values.specs.declared.operator.BinaryOperator.{BinaryOperator}
use Rattle.ada_values.specs.declared.operator.BinaryOperator.TheVariants as binary
use Rattle.ada_values.specs.declared.value.Value.{Value as ScalarValue}
use Rattle.ada_values.specs.declared.value.Value.TheVariants.{Integer, Boolean}
use Rattle.ada_values.specs.declared.fault.OperatorFault.{OperatorFault}
use Rattle.ada_values.specs.declared.fault.OperatorFault.TheVariants.{Overflow, DivisionByZero, WrongType}
use Rattle.ada_values.specs.Outcome.{outcome_of, outcome_of_integers, outcome_of_booleans, unary_outcome_of}
use Rattle.ada_program.specs.declared.program.Exception.{Exception}
use Rattle.ada_program.specs.declared.program.Exception.TheVariants.{ConstraintError, ProgramError, StorageError, EndError, Declared}
use Rattle.ada_program.specs.Form.{ItemForm, RightForm, nothing, value_of, allocates, allocates_default, computes, DeclarationForm, creates_pool, collects, declares, declares_record, StmtForm, skips, assigns, assigns_record, frees, gets, writes, writes_text, chooses, repeats, counts, exits, calls, returns, raises, encloses, StmtsForm, no_stmts, a_stmt, BranchesForm, otherwise, a_branch, HandlersForm, no_handlers, a_handler}
use Rattle.ada_program.specs.Handling.{is_same, handler_of, is_taken}
use Rattle.ada_program.specs.ProgramForm.{TypeForm, BodyForm, ProgramForm}
use Rattle.ada_effects.specs.Effects.{Effect, Implicit, Effects, known_of, right_starts, initial_starts, effect_of, effects_from, effects_of, call_raises, actuals_raise, expression_raises, condition_raises, items_raise, path_raises, record_path_raises, initial_raises, untaken, unary_raises, binary_raises, right_raises, declaration_raises, declarations_raise, stmt_raises, stmts_raise, branches_raise, handlers_raise}
use Rattle.ada_meaning.specs.declared.state.Value.{Value}
use Rattle.ada_meaning.specs.declared.state.Value.TheVariants.{Null, Names, Scalar, Part}
use Rattle.ada_meaning.specs.Named.{as_value, unary_given, binary_given}

-- One of two, and both of two.
pub or_left : (a b : Bool) → a ≡ true → (a || b) ≡ true
or_left true b e = refl
or_left false b e = absurd (cc e)

pub or_right : (a b : Bool) → b ≡ true → (a || b) ≡ true
or_right true b e = refl
or_right false b e = e

pub or_map : (a b c d : Bool) → (a ≡ true → c ≡ true) → (b ≡ true → d ≡ true) → (a || b) ≡ true → (c || d) ≡ true
or_map true b c d f g e = or_left c d (f refl)
or_map false b c d f g e = or_right c d (g e)

and_map : (a b c d : Bool) → (a ≡ true → c ≡ true) → (b ≡ true → d ≡ true) → (a && b) ≡ true → (c && d) ≡ true
and_map true b true d f g e = g e
and_map true b false d f g e = absurd (cc (f refl))
and_map false b c d f g e = absurd (cc e)

and_first : (a b c : Bool) → (a ≡ true → c ≡ true) → (a && b) ≡ true → (c && b) ≡ true
and_first a b c f e = and_map a b c b f (λ h. h) e

pub both : (a b : Bool) → a ≡ true → b ≡ true → (a && b) ≡ true
both true b e f = f
both false b e f = absurd (cc e)

-- An exception is the same as itself alone.
pub same_here : (e : Exception) → is_same e e ≡ true
same_here ConstraintError = refl
same_here ProgramError = refl
same_here StorageError = refl
same_here EndError = refl
same_here (Declared e) = eq-eqb e.0 e.0 refl

pub same_is : (e f : Exception) → is_same e f ≡ true → e ≡ f
same_is ConstraintError ConstraintError is = refl
same_is ProgramError ProgramError is = refl
same_is StorageError StorageError is = refl
same_is EndError EndError is = refl
same_is (Declared e) (Declared f) is = ap (λ n. Declared (record { 0 = n })) (eqb-true e.0 f.0 is)
same_is e f is = absurd (cc is)

-- What is asked for is among more.
abbrev pub IsAmong : (Exception → Bool) → (Exception → Bool) → Type 0
IsAmong among more = (e : Exception) → among e ≡ true → more e ≡ true

untaken_more : (hs : HandlersForm) (among more : Exception → Bool) → IsAmong among more → IsAmong (untaken hs among) (untaken hs more)
untaken_more hs among more m e is = and_first (among e) (not (is_taken hs e)) (more e) (m e) is

right_more : (among more : Exception → Bool) → IsAmong among more → (right : RightForm) → right_raises among right ≡ true → right_raises more right ≡ true
right_more among more m nothing is = is
right_more among more m (value_of path) is = and_first (among ConstraintError) (path_raises path) (more ConstraintError) (m ConstraintError) is
right_more among more m (allocates access items) is =
    or_map (among StorageError) (among ConstraintError && items_raise items) (more StorageError) (more ConstraintError && items_raise items) (m StorageError)
    (λ i. and_first (among ConstraintError) (items_raise items) (more ConstraintError) (m ConstraintError) i) is
right_more among more m (allocates_default access) is = m StorageError is
right_more among more m (computes e) is = and_first (among ConstraintError) (expression_raises e) (more ConstraintError) (m ConstraintError) is

-- What is initialized.
pub any_more : (among more : Exception → Bool) → IsAmong among more → (es : List Exception) → list_any among es ≡ true → list_any more es ≡ true
any_more among more m [] is = is
any_more among more m (e ∷ es) is = or_map (among e) (list_any among es) (more e) (list_any more es) (m e) (any_more among more m es) is

right_starts_more : (implicit : Implicit) (among more : Exception → Bool) → IsAmong among more → (right : RightForm) → right_starts implicit among right ≡ true → right_starts implicit more right ≡ true
right_starts_more implicit among more m nothing is = is
right_starts_more implicit among more m (value_of path) is = is
right_starts_more implicit among more m (allocates access items) is = any_more among more m (implicit.start_raises access) is
right_starts_more implicit among more m (allocates_default access) is = any_more among more m (implicit.start_raises access) is
right_starts_more implicit among more m (computes e) is = is

initial_starts_more : (implicit : Implicit) (among more : Exception → Bool) → IsAmong among more → (object : ℕ) (initial : Option (List ItemForm)) → initial_starts implicit among object initial ≡ true → initial_starts implicit more object initial ≡ true
initial_starts_more implicit among more m object None is = any_more among more m (implicit.start_raises object) is
initial_starts_more implicit among more m object (Some items) is = is

pub declarations_more : (implicit : Implicit) (among more : Exception → Bool) → IsAmong among more → (ds : List DeclarationForm) → declarations_raise implicit among ds ≡ true → declarations_raise implicit more ds ≡ true
declarations_more implicit among more m [] is = is
declarations_more implicit among more m (d ∷ ds) is =
    or_map (declaration_raises implicit among d) (declarations_raise implicit among ds) (declaration_raises implicit more d) (declarations_raise implicit more ds) (one d) (declarations_more implicit among more m ds) is
  where
    one : (d : DeclarationForm) → declaration_raises implicit among d ≡ true → declaration_raises implicit more d ≡ true
    one (creates_pool pool) i = i
    one (collects access) i = i
    one (declares x right) i =
        or_map (right_raises among right) (right_starts implicit among right) (right_raises more right) (right_starts implicit more right)
        (right_more among more m right) (right_starts_more implicit among more m right) i
    one (declares_record x t initial) i =
        or_map (among ConstraintError && initial_raises initial) (initial_starts implicit among t initial) (more ConstraintError && initial_raises initial) (initial_starts implicit more t initial)
        (λ j. and_first (among ConstraintError) (initial_raises initial) (more ConstraintError) (m ConstraintError) j) (initial_starts_more implicit among more m t initial) i

-- Whether a call raises one of some exceptions, it does where more are asked for.
abbrev pub AsksEach : Effect → Type 0
AsksEach effect = (among more : Exception → Bool) → IsAmong among more → effect.raises among ≡ true → effect.raises more ≡ true

abbrev pub AllAsk : List Effect → Type 0
AllAsk [] = Unit {0}
AllAsk (e ∷ es) = AsksEach e × AllAsk es

pub call_more : (effects : List Effect) → AllAsk effects → (procedure : ℕ) (among more : Exception → Bool) → IsAmong among more → call_raises (slice_get effects procedure) among ≡ true → call_raises (slice_get effects procedure) more ≡ true
call_more [] all procedure among more m is = absurd (cc is)
call_more (e ∷ es) all zero among more m is = all.0 among more m is
call_more (e ∷ es) all (suc procedure) among more m is = call_more es all.1 procedure among more m is

mutual
  stmt_more : (effects : Effects) → AllAsk effects.calls → (f : StmtForm) (among more : Exception → Bool) → IsAmong among more → stmt_raises effects among f ≡ true → stmt_raises effects more f ≡ true
  stmt_more effects all skips among more m is = is
  stmt_more effects all (assigns target right) among more m is =
      let follows = path_raises target in
      or_map ((among ConstraintError && follows) || right_raises among right) (right_starts effects.implicit among right) ((more ConstraintError && follows) || right_raises more right) (right_starts effects.implicit more right)
      (λ i. or_map (among ConstraintError && follows) (right_raises among right) (more ConstraintError && follows) (right_raises more right)
      (λ j. and_first (among ConstraintError) follows (more ConstraintError) (m ConstraintError) j) (right_more among more m right) i)
      (right_starts_more effects.implicit among more m right) is
  stmt_more effects all (assigns_record target items) among more m is =
      and_first (among ConstraintError) (record_path_raises target || items_raise items) (more ConstraintError) (m ConstraintError) is
  stmt_more effects all (frees access path) among more m is = and_first (among ConstraintError) (path_raises path) (more ConstraintError) (m ConstraintError) is
  stmt_more effects all (gets target) among more m is =
      let follows = path_raises target in
      or_map (among EndError) (among ConstraintError && follows) (more EndError) (more ConstraintError && follows)
      (m EndError) (λ i. and_first (among ConstraintError) follows (more ConstraintError) (m ConstraintError) i) is
  stmt_more effects all (writes e) among more m is = and_first (among ConstraintError) (expression_raises e) (more ConstraintError) (m ConstraintError) is
  stmt_more effects all (writes_text text) among more m is = is
  stmt_more effects all (chooses branches) among more m is = branches_more effects all branches among more m is
  stmt_more effects all (repeats condition fs end_spot) among more m is =
      or_map (among ConstraintError && condition_raises condition) (stmts_raise effects among fs) (more ConstraintError && condition_raises condition) (stmts_raise effects more fs)
      (λ i. and_first (among ConstraintError) (condition_raises condition) (more ConstraintError) (m ConstraintError) i) (stmts_more effects all fs among more m) is
  stmt_more effects all (counts x low high fs end_spot) among more m is =
      or_map (among ConstraintError && (expression_raises low || expression_raises high)) (stmts_raise effects among fs) (more ConstraintError && (expression_raises low || expression_raises high)) (stmts_raise effects more fs)
      (λ i. and_first (among ConstraintError) (expression_raises low || expression_raises high) (more ConstraintError) (m ConstraintError) i) (stmts_more effects all fs among more m) is
  stmt_more effects all (exits condition spot) among more m is = and_first (among ConstraintError) (condition_raises condition) (more ConstraintError) (m ConstraintError) is
  stmt_more effects all (calls procedure actuals) among more m is =
      or_map (among ConstraintError && actuals_raise actuals) (call_raises (slice_get effects.calls procedure) among) (more ConstraintError && actuals_raise actuals) (call_raises (slice_get effects.calls procedure) more)
      (λ i. and_first (among ConstraintError) (actuals_raise actuals) (more ConstraintError) (m ConstraintError) i) (call_more effects.calls all procedure among more m) is
  stmt_more effects all (returns spot) among more m is = is
  stmt_more effects all (raises e) among more m is = m e is
  stmt_more effects all (encloses ds fs hs) among more m is =
      or_map (declarations_raise effects.implicit among ds || stmts_raise effects (untaken hs among) fs) (handlers_raise effects among hs) (declarations_raise effects.implicit more ds || stmts_raise effects (untaken hs more) fs) (handlers_raise effects more hs)
      (λ i. or_map (declarations_raise effects.implicit among ds) (stmts_raise effects (untaken hs among) fs) (declarations_raise effects.implicit more ds) (stmts_raise effects (untaken hs more) fs) (declarations_more effects.implicit among more m ds) (stmts_more effects all fs (untaken hs among) (untaken hs more) (untaken_more hs among more m)) i)
      (handlers_more effects all hs among more m) is

  pub stmts_more : (effects : Effects) → AllAsk effects.calls → (fs : StmtsForm) (among more : Exception → Bool) → IsAmong among more → stmts_raise effects among fs ≡ true → stmts_raise effects more fs ≡ true
  stmts_more effects all no_stmts among more m is = is
  stmts_more effects all (a_stmt f fs) among more m is = or_map (stmt_raises effects among f) (stmts_raise effects among fs) (stmt_raises effects more f) (stmts_raise effects more fs) (stmt_more effects all f among more m) (stmts_more effects all fs among more m) is

  branches_more : (effects : Effects) → AllAsk effects.calls → (branches : BranchesForm) (among more : Exception → Bool) → IsAmong among more → branches_raise effects among branches ≡ true → branches_raise effects more branches ≡ true
  branches_more effects all (otherwise fs) among more m is = stmts_more effects all fs among more m is
  branches_more effects all (a_branch e fs branches) among more m is =
      or_map ((among ConstraintError && expression_raises e) || stmts_raise effects among fs) (branches_raise effects among branches) ((more ConstraintError && expression_raises e) || stmts_raise effects more fs) (branches_raise effects more branches)
      (λ i. or_map (among ConstraintError && expression_raises e) (stmts_raise effects among fs) (more ConstraintError && expression_raises e) (stmts_raise effects more fs) (λ j. and_first (among ConstraintError) (expression_raises e) (more ConstraintError) (m ConstraintError) j) (stmts_more effects all fs among more m) i)
      (branches_more effects all branches among more m) is

  pub handlers_more : (effects : Effects) → AllAsk effects.calls → (hs : HandlersForm) (among more : Exception → Bool) → IsAmong among more → handlers_raise effects among hs ≡ true → handlers_raise effects more hs ≡ true
  handlers_more effects all no_handlers among more m is = is
  handlers_more effects all (a_handler choices fs hs) among more m is = or_map (stmts_raise effects among fs) (handlers_raise effects among hs) (stmts_raise effects more fs) (handlers_raise effects more hs) (stmts_more effects all fs among more m) (handlers_more effects all hs among more m) is

-- Of a body, and of all procedures of a program.
pub body_more : (effects : Effects) → AllAsk effects.calls → (types : List TypeForm) (b : BodyForm) → AsksEach (effect_of types effects b)
body_more effects all types b among more m is =
    or_map (declarations_raise effects.implicit among b.declarations || stmts_raise effects (untaken b.handlers among) b.statements) (handlers_raise effects among b.handlers)
    (declarations_raise effects.implicit more b.declarations || stmts_raise effects (untaken b.handlers more) b.statements) (handlers_raise effects more b.handlers)
    (λ i. or_map (declarations_raise effects.implicit among b.declarations) (stmts_raise effects (untaken b.handlers among) b.statements)
    (declarations_raise effects.implicit more b.declarations) (stmts_raise effects (untaken b.handlers more) b.statements)
    (declarations_more effects.implicit among more m b.declarations)
    (stmts_more effects all b.statements (untaken b.handlers among) (untaken b.handlers more) (untaken_more b.handlers among more m)) i)
    (handlers_more effects all b.handlers among more m) is

one_asks_more : (effects : List Effect) (e : Effect) → AllAsk effects → AsksEach e → AllAsk (effects ++ e ∷ [])
one_asks_more [] e all one = (one, tt)
one_asks_more (f ∷ fs) e all one = (all.0, one_asks_more fs e all.1 one)

from_ask : (types : List TypeForm) (implicit : Implicit) (known : List Effect) (bodies : List BodyForm) → AllAsk known → AllAsk (effects_from types implicit known bodies)
from_ask types implicit known [] all = all
from_ask types implicit known (b ∷ bs) all =
    let effect = effect_of types (known_of implicit known) b in
    from_ask types implicit (known ++ effect ∷ []) bs (one_asks_more known effect all (body_more (known_of implicit known) all types b))

pub program_asks : (implicit : Implicit) (p : ProgramForm) → AllAsk (effects_of implicit p).calls
program_asks implicit p = from_ask p.types implicit [] p.bodies tt

-- An exception that no handler takes.
pub not_taken : (hs : HandlersForm) (e : Exception) → handler_of e hs ≡ None → (f : Exception) → is_same e f ≡ true → not (is_taken hs f) ≡ true
not_taken hs e none f is = rw (← same_is e f is, none) refl

pub raises_untaken : (implicit : Implicit) (p : ProgramForm) (fs : StmtsForm) (hs : HandlersForm) (e : Exception) → handler_of e hs ≡ None → stmts_raise (effects_of implicit p) (is_same e) fs ≡ true → stmts_raise (effects_of implicit p) (untaken hs (is_same e)) fs ≡ true
raises_untaken implicit p fs hs e none is = stmts_more (effects_of implicit p) (program_asks implicit p) fs (is_same e) (untaken hs (is_same e)) (λ f same. both (is_same e f) (not (is_taken hs f)) same (not_taken hs e none f same)) is

pub raises_past : (implicit : Implicit) (p : ProgramForm) (fs : StmtsForm) (hs : HandlersForm) (e : Exception) → handler_of e hs ≡ None → stmts_raise (effects_of implicit p) (is_same e) fs ≡ true → stmts_raise (effects_of implicit p) (λ f. not (is_taken hs f)) fs ≡ true
raises_past implicit p fs hs e none is = stmts_more (effects_of implicit p) (program_asks implicit p) fs (is_same e) (λ f. not (is_taken hs f)) (not_taken hs e none) is

-- An operator raises an exception only where it may.
abbrev pub RaisesOnly : {X : Type 0} → Bool → Result X OperatorFault → Type 0
RaisesOnly may (Ok v) = Unit {0}
RaisesOnly may (Err Overflow) = may ≡ true
RaisesOnly may (Err DivisionByZero) = may ≡ true
RaisesOnly may (Err WrongType) = Unit {0}

may_raise : {X : Type 0} (r : Result X OperatorFault) → RaisesOnly true r
may_raise (Ok v) = tt
may_raise (Err Overflow) = refl
may_raise (Err DivisionByZero) = refl
may_raise (Err WrongType) = tt

integers_only : (operator : BinaryOperator) (a b : ℤ) → RaisesOnly (binary_raises operator) (outcome_of_integers operator a b)
integers_only binary.Add a b = may_raise (outcome_of_integers binary.Add a b)
integers_only binary.Subtract a b = may_raise (outcome_of_integers binary.Subtract a b)
integers_only binary.Multiply a b = may_raise (outcome_of_integers binary.Multiply a b)
integers_only binary.Divide a b = may_raise (outcome_of_integers binary.Divide a b)
integers_only binary.Remainder a b = may_raise (outcome_of_integers binary.Remainder a b)
integers_only binary.Modulo a b = may_raise (outcome_of_integers binary.Modulo a b)
integers_only operator a b = tt

booleans_only : (operator : BinaryOperator) (a b : Bool) → RaisesOnly (binary_raises operator) (outcome_of_booleans operator a b)
booleans_only binary.And a b = tt
booleans_only operator a b = tt

outcome_only : (operator : BinaryOperator) (a b : ScalarValue) → RaisesOnly (binary_raises operator) (outcome_of operator a b)
unfolding outcome_of
outcome_only operator (Integer a) (Integer b) = integers_only operator a b
outcome_only operator (Boolean a) (Boolean b) = booleans_only operator a b
outcome_only operator (Integer a) (Boolean b) = tt
outcome_only operator (Boolean a) (Integer b) = tt

unary_outcome_only : (operator : UnaryOperator) (a : ScalarValue) → RaisesOnly (unary_raises operator) (unary_outcome_of operator a)
unfolding unary_outcome_of
unary_outcome_only unary.Plus (Integer a) = tt
unary_outcome_only unary.Minus (Integer a) = may_raise (unary_outcome_of unary.Minus (Integer a))
unary_outcome_only unary.Not (Integer a) = tt
unary_outcome_only unary.Plus (Boolean a) = tt
unary_outcome_only unary.Minus (Boolean a) = tt
unary_outcome_only unary.Not (Boolean a) = tt

value_only : (may : Bool) (r : Result ScalarValue OperatorFault) → RaisesOnly may r → RaisesOnly may (as_value r)
value_only may (Ok v) h = tt
value_only may (Err Overflow) h = h
value_only may (Err DivisionByZero) h = h
value_only may (Err WrongType) h = tt

pub unary_only : (operator : UnaryOperator) (a : Value) → RaisesOnly (unary_raises operator) (unary_given operator a)
unary_only operator Null = tt
unary_only operator (Names o) = tt
unary_only operator (Part o first) = tt
unary_only operator (Scalar a) = value_only (unary_raises operator) (unary_outcome_of operator a) (unary_outcome_only operator a)

pub binary_only : (operator : BinaryOperator) (a b : Value) → RaisesOnly (binary_raises operator) (binary_given operator a b)
binary_only operator (Scalar a) (Scalar b) = value_only (binary_raises operator) (outcome_of operator a b) (outcome_only operator a b)
binary_only operator a b = tt
