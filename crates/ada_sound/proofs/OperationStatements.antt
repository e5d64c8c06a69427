-- The body of an operation comes to a statement, or to what is left of one (7.6).

use Rattle.std.proofs.Common.{◌≡◌, ◌≢◌, ℕ, zero, suc, true, List, [], ◌∷◌, ◌++◌, ◌+◌, refl, sym, ap, subst, ◌∙◌, ◌⊎◌, inl, inr}
use Rattle.std.specs.Prelude.{ℤ, Option, Some, None, ◌||◌, ◌&&◌}
use Rattle.std.specs.List.{slice_set}
use Rattle.ada_program.specs.declared.program.TypeDefinition.{TypeDefinition}
use Rattle.ada_program.specs.declared.program.Exception.{Exception}
use Rattle.ada_program.specs.declared.program.Exception.TheVariants.{ConstraintError, EndError}
use Rattle.ada_program.specs.declared.program.VariableKind.{VariableKind}
use Rattle.ada_program.specs.declared.program.VariableKind.TheVariants as variable
use Rattle.ada_program.specs.Form.{ExpressionForm, RightForm, nothing, value_of, allocates, allocates_default, computes, StmtForm, skips, assigns, assigns_record, frees, gets, writes, writes_text, chooses, repeats, counts, exits, calls, returns, raises, encloses, StmtsForm, a_stmt, BranchesForm, otherwise, a_branch}
use Rattle.ada_program.specs.ProgramForm.{BodyForm}
use Rattle.ada_program.specs.Handling.{is_same}
use Rattle.ada_program.specs.WellFormed.{kind_among, reached_components, variable_kind, selectors_kind, selected_kind}
use Rattle.ada_effects.specs.Effects.{no_calls, no_implicit, untaken, path_raises, expression_raises, condition_raises, right_raises, right_starts, declarations_raise, stmt_raises, stmts_raise, branches_raise, handlers_raise}
use Rattle.ada_flow.specs.Flow.{has_exit, have_exit, branches_have_exit, handlers_have_exit}
use Rattle.ada_meaning.specs.declared.state.Value.{Value}
use Rattle.ada_meaning.specs.declared.state.Value.TheVariants.{Null, Names}
use Rattle.ada_meaning.specs.declared.state.Mode.{Mode}
use Rattle.ada_meaning.specs.declared.state.Mode.TheVariants.{Running, Raising, Exiting, Returning}
use Rattle.ada_meaning.specs.Event.{Quiet}
use Rattle.ada_meaning.specs.Frame.{Does, Decides, Repeats, Ranges, Exits, Evaluates, Computes, Stores, Targets, Receives, Writes}
use Rattle.ada_meaning.specs.State.{Activation, Master}
use Rattle.ada_meaning.specs.Step.{assign_next, gets_next, branches_next, exit_next, stmt_next}
use Rattle.ada_meaning.specs.Named.{State, Next, named, whole}
use Rattle.ada_meaning.specs.Run.{Event}
use Rattle.ada_owners.proofs.Kernel.{same_or_not}
use Rattle.ada_owners.proofs.Objects.{read_other}
use Rattle.ada_quiet.specs.Quiet.{is_near, holds_elementary, is_quiet_path, is_quiet_expression, is_quiet_condition, is_quiet_right, are_quiet_declarations, is_quiet_stmt, are_quiet, are_quiet_branches, are_quiet_handlers}
use Rattle.ada_sound.proofs.Fits.{place_at}
use Rattle.ada_sound.proofs.Invariant.{Control}
use Rattle.ada_sound.proofs.Raising.{or_left, or_right, same_here}
use Rattle.ada_sound.proofs.OperationStarts.{apart, block_stays}
use Rattle.ada_sound.proofs.Operating.{Sight, IsInto, IsScalar, AreScalars, StaysIn, IsInLoop, Contains, GoesIn, Holds, AllHold, RunsIn, ChoosesIn, EvaluatesIn, Quietly, Finds, Comes, Body}
use Rattle.ada_sound.proofs.OperationSteps as steps
use Rattle.ada_sound.proofs.OperationSteps.{acting, IsMild, After, GoesOnIn}

-- A variable gets an Integer or a Boolean.
put_at : (places : List Value) (x : ℕ) (v : Value) → (place_at (slice_set places x v) x ≡ v) ⊎ (place_at (slice_set places x v) x ≡ place_at places x)
put_at [] x v = inr refl
put_at (w ∷ ws) zero v = inl refl
put_at (w ∷ ws) (suc x) v = put_at ws x v

scalar_holds : (sight : Sight) (kind : Option VariableKind) (v : Value) → holds_elementary kind ≡ true → IsScalar v → Holds sight kind v
scalar_holds sight None v e h = tt
scalar_holds sight (Some variable.Integer) v e h = h
scalar_holds sight (Some variable.Boolean) v e h = h
scalar_holds sight (Some (variable.Access access)) v e h = absurd (cc e)
scalar_holds sight (Some (variable.Record t)) v e h = absurd (cc e)

pub put_holds : (sight : Sight) (places : List Value) (x : ℕ) (v : Value) → holds_elementary (variable_kind sight.program.variables x) ≡ true → IsScalar v → AllHold sight places → AllHold sight (slice_set places x v)
put_holds sight places x v e is holds y = go (same_or_not y x)
  where
    go : (y ≡ x) ⊎ (y ≢ x) → Holds sight (variable_kind sight.program.variables y) (place_at (slice_set places x v) y)
    go (inl same) = rw same (elim (put_at places x v) [ inl now ↦ rw now (scalar_holds sight (variable_kind sight.program.variables x) v e is) | inr before ↦ rw before (holds x) ])
    go (inr ne) = rw (read_other places x y v Null ne) (holds y)

module _ (sight : Sight) (procedure : ℕ) (rest : List (Activation Value)) (lower : List Master) (behind : Control) (tds : List TypeDefinition) (bodies : List BodyForm) (s : State) (ms : List Master) (places vs : List Value) (k : Control) (mode : Mode) (whole_control : Control) (waiting : List Value) (body : Body sight behind ms s.heap places waiting mode whole_control) (q : Quietly sight behind ms k) (all : AreScalars vs) where
  abbrev pub now : State
  now = record s { mode = Running; control = k; activations = acting sight procedure rest lower behind places vs ∷ rest; masters = ms ++ lower }

  abbrev pub Fine : Next → Type 0
  Fine n = GoesOnIn sight procedure rest lower behind s.heap n

  on : (e : Event) (after : State) (ws : List Value) → IsMild sight procedure rest lower behind e → after.activations ≡ acting sight procedure rest lower behind places ws ∷ rest → after.masters ≡ ms ++ lower → after.heap ≡ s.heap → Comes sight behind ms after.mode after.control ws → After sight procedure rest lower behind s.heap e after
  on = steps.on sight procedure rest lower behind tds bodies s ms places vs k mode whole_control waiting body q

  to : (e : Event) (after : State) (ws : List Value) (j : Control) → IsMild sight procedure rest lower behind e → after.activations ≡ acting sight procedure rest lower behind places ws ∷ rest → after.masters ≡ ms ++ lower → after.heap ≡ s.heap → after.mode ≡ Running → after.control ≡ j → AreScalars ws → Quietly sight behind ms j → After sight procedure rest lower behind s.heap e after
  to = steps.on_to sight procedure rest lower behind tds bodies s ms places vs k mode whole_control waiting body q

  -- The object is found first.
  finds : (after : State) (ws : List Value) (j : Control) → after.activations ≡ acting sight procedure rest lower behind places ws ∷ rest → after.masters ≡ ms ++ lower → after.heap ≡ s.heap → after.mode ≡ Running → after.control ≡ j → Finds sight behind ms j ws → After sight procedure rest lower behind s.heap Quiet after
  finds after ws j active masters heap runs is found = on Quiet after ws tt active masters heap (rw (runs, is) (inr (refl, found)))

  -- A variable gets a value.
  puts_on : (x : ℕ) (v : Value) (after : State) → holds_elementary (variable_kind sight.program.variables x) ≡ true → IsScalar v → after.activations ≡ acting sight procedure rest lower behind (slice_set places x v) vs ∷ rest → after.masters ≡ ms ++ lower → after.heap ≡ s.heap → Comes sight behind ms after.mode after.control vs → After sight procedure rest lower behind s.heap Quiet after
  puts_on x v after e is active masters heap comes = record {
    places = slice_set places x v;
    operands = vs;
    upper = ms;
    active = active;
    masters = masters;
    body = rw heap (record {
      x = body.x;
      found = body.found;
      live = body.live;
      of_access = body.of_access;
      scalars = body.scalars;
      holds = put_holds sight places x v e is body.holds;
      own = body.own;
      comes = comes;
    });
    wrote = inl heap;
    mild = tt;
  }

  jumps_on : (m : Mode) → GoesIn sight m k → After sight procedure rest lower behind s.heap Quiet (record now { mode = m; activations = acting sight procedure rest lower behind places [] ∷ rest })
  jumps_on m goes = on Quiet _ [] tt refl refl refl (inl (tt, goes, q))

  -- What holds an Integer or a Boolean is of a kind.
  elementary_some : (kind : Option VariableKind) → holds_elementary kind ≡ true → (k : VariableKind) × (kind ≡ Some k) × (holds_elementary (Some k) ≡ true)
  elementary_some None e = absurd (cc e)
  elementary_some (Some k) e = (k, refl, e)

  -- The object is found in which a component is to get something.
  formal_whole : (kind : Option VariableKind) (v : Value) (c : ℕ) → holds_elementary (selected_kind sight.program.types kind c) ≡ true → Holds sight kind v → IsInto sight (whole v) (named.inside v c)
  formal_whole None v c e h = absurd (cc e)
  formal_whole (Some variable.Integer) v c e h = absurd (cc e)
  formal_whole (Some variable.Boolean) v c e h = absurd (cc e)
  formal_whole (Some (variable.Access access)) v c e h = absurd h
  formal_whole (Some (variable.Record t)) v c e (place, is, within) =
      let kind = elementary_some (selected_kind sight.program.types (Some (variable.Record t)) c) e in
      let there : kind_among (reached_components sight.program.types sight.access) (place.component + c) ≡ Some kind.0 = within c kind.0 kind.1 in
      subst (λ (u : Value). IsInto sight (whole u) (named.inside u c)) (sym is) (refl, ap holds_elementary there ∙ kind.2)

  assigns_on : (selectors : List ℕ) (root : ℕ) (right : RightForm) → (is_near root selectors && holds_elementary (selectors_kind sight.program.types (variable_kind sight.program.variables root) selectors)) ≡ true → EvaluatesIn sight right k → EvaluatesIn sight right (Stores root ∷ k) → Fine (assign_next named selectors root right now)
  assigns_on [] root right e into there = to Quiet _ vs (Evaluates right ∷ Stores root ∷ k) tt refl refl refl refl refl all (there, (e, q))
  assigns_on (c ∷ []) zero right e into there =
      finds _ (whole (place_at places zero) ∷ vs) (Targets (named.inside (place_at places zero) c) right ∷ k) refl refl refl refl refl
      (formal_whole (variable_kind sight.program.variables zero) (place_at places zero) c e (body.holds zero), all, into, q)
  assigns_on (c ∷ d ∷ cs) zero right e into there = absurd (cc e)
  assigns_on (c ∷ cs) (suc x) right e into there = absurd (cc e)

  gets_on : (selectors : List ℕ) (root : ℕ) (input : List ℤ) → (is_near root selectors && holds_elementary (selectors_kind sight.program.types (variable_kind sight.program.variables root) selectors)) ≡ true → StaysIn sight EndError k → Fine (gets_next named selectors root input now)
  gets_on [] root [] e stays = jumps_on (Raising EndError) stays
  gets_on [] root (i ∷ is) e stays = puts_on root (named.integer i) _ e tt refl refl refl (inl (all, tt, q))
  gets_on (c ∷ []) zero input e stays =
      finds _ (whole (place_at places zero) ∷ vs) (Receives (named.inside (place_at places zero) c) ∷ k) refl refl refl refl refl
      (formal_whole (variable_kind sight.program.variables zero) (place_at places zero) c e (body.holds zero), all, stays, q)
  gets_on (c ∷ d ∷ cs) zero input e stays = absurd (cc e)
  gets_on (c ∷ cs) (suc x) input e stays = absurd (cc e)

  -- One of some branches is chosen.
  pub branches_on : (branches : BranchesForm) → ChoosesIn sight branches k → Fine (branches_next named branches now)
  branches_on (otherwise fs) (quiet, stays, out) = to Quiet _ vs (Does fs ∷ k) tt refl refl refl refl refl all ((quiet, stays, out), q)
  branches_on (a_branch e fs branches) (quiet, stays, out) =
      let one = apart (is_quiet_expression sight.program.types sight.program.variables e && are_quiet sight.program.types sight.program.variables fs) (are_quiet_branches sight.program.types sight.program.variables branches) quiet in
      let two = apart (is_quiet_expression sight.program.types sight.program.variables e) (are_quiet sight.program.types sight.program.variables fs) one.0 in
      to Quiet _ vs (Computes e ∷ Decides fs branches ∷ k) tt refl refl refl refl refl all (
        (two.0, λ may. stays ConstraintError (or_left (expression_raises e || stmts_raise no_calls (is_same ConstraintError) fs) (branches_raise no_calls (is_same ConstraintError) branches) (or_left (expression_raises e) (stmts_raise no_calls (is_same ConstraintError) fs) may))),
        (
          (
            (two.1, (λ x may. stays x (or_left ((is_same x ConstraintError && expression_raises e) || stmts_raise no_calls (is_same x) fs) (branches_raise no_calls (is_same x) branches) (or_right (is_same x ConstraintError && expression_raises e) (stmts_raise no_calls (is_same x) fs) may))), λ o. out (or_left (have_exit fs) (branches_have_exit branches) o)),
            (one.1, (λ x may. stays x (or_right ((is_same x ConstraintError && expression_raises e) || stmts_raise no_calls (is_same x) fs) (branches_raise no_calls (is_same x) branches) may)), λ o. out (or_right (have_exit fs) (branches_have_exit branches) o)),
          ),
          q,
        ),
      )

-- What is left of the statements that this one begins.
abbrev pub IsFirst : Sight → StmtForm → Control → Type 0
IsFirst sight f k =
    (is_quiet_stmt sight.program.types sight.program.variables f ≡ true) × ((e : Exception) → stmt_raises no_calls (is_same e) f ≡ true → StaysIn sight e k)
    × (has_exit f ≡ true → IsInLoop k)

-- A statement, and those behind it.
pub first_of : (sight : Sight) (f : StmtForm) (fs : StmtsForm) (k : Control) → RunsIn sight (a_stmt f fs) k → IsFirst sight f k × RunsIn sight fs k
first_of sight f fs k (quiet, stays, out) =
    let two = apart (is_quiet_stmt sight.program.types sight.program.variables f) (are_quiet sight.program.types sight.program.variables fs) quiet in (
      (two.0, (λ e may. stays e (or_left (stmt_raises no_calls (is_same e) f) (stmts_raise no_calls (is_same e) fs) may)), λ o. out (or_left (has_exit f) (have_exit fs) o)),
      (two.1, (λ e may. stays e (or_right (stmt_raises no_calls (is_same e) f) (stmts_raise no_calls (is_same e) fs) may)), λ o. out (or_right (has_exit f) (have_exit fs) o)),
    )

module _ (sight : Sight) (procedure : ℕ) (rest : List (Activation Value)) (lower : List Master) (behind : Control) (tds : List TypeDefinition) (bodies : List BodyForm) (s : State) (ms : List Master) (places vs : List Value) (k : Control) (mode : Mode) (whole_control : Control) (waiting : List Value) (body : Body sight behind ms s.heap places waiting mode whole_control) (q : Quietly sight behind ms k) (all : AreScalars vs) where
  abbrev pub begun : State
  begun = now sight procedure rest lower behind tds bodies s ms places vs k mode whole_control waiting body q all

  abbrev pub Goes : Next → Type 0
  Goes n = GoesOnIn sight procedure rest lower behind s.heap n

  runs : (e : Event) (after : State) (ws : List Value) → IsMild sight procedure rest lower behind e → after.activations ≡ acting sight procedure rest lower behind places ws ∷ rest → after.masters ≡ ms ++ lower → after.heap ≡ s.heap → Comes sight behind ms after.mode after.control ws → After sight procedure rest lower behind s.heap e after
  runs = on sight procedure rest lower behind tds bodies s ms places vs k mode whole_control waiting body q all

  next_is : (e : Event) (after : State) (ws : List Value) (j : Control) → IsMild sight procedure rest lower behind e → after.activations ≡ acting sight procedure rest lower behind places ws ∷ rest → after.masters ≡ ms ++ lower → after.heap ≡ s.heap → after.mode ≡ Running → after.control ≡ j → AreScalars ws → Quietly sight behind ms j → After sight procedure rest lower behind s.heap e after
  next_is = to sight procedure rest lower behind tds bodies s ms places vs k mode whole_control waiting body q all

  exits_on : (condition : Option ExpressionForm) → is_quiet_condition sight.program.types sight.program.variables condition ≡ true → Contains sight (condition_raises condition) k → IsInLoop k → Goes (exit_next named condition begun)
  exits_on None quiet stays inside = jumps_on sight procedure rest lower behind tds bodies s ms places vs k mode whole_control waiting body q all Exiting inside
  exits_on (Some e) quiet stays inside = next_is Quiet _ vs (Computes e ∷ Exits ∷ k) tt refl refl refl refl refl all ((quiet, stays), (inside, q))

  right_on : (right : RightForm) (j : Control) → is_quiet_right sight.program.types sight.program.variables right ≡ true → ((e : Exception) → right_raises (is_same e) right ≡ true → StaysIn sight e j) → EvaluatesIn sight right j
  right_on nothing j quiet stays = absurd (cc quiet)
  right_on (value_of path) j quiet stays = absurd (cc quiet)
  right_on (allocates access items) j quiet stays = absurd (cc quiet)
  right_on (allocates_default access) j quiet stays = absurd (cc quiet)
  right_on (computes e) j quiet stays = (quiet, stays ConstraintError)

  pub stmt_on : (f : StmtForm) → IsFirst sight f k → Goes (stmt_next named tds bodies f begun)
  stmt_on skips (quiet, stays, out) = runs Quiet _ vs tt refl refl refl (inl (all, tt, q))
  stmt_on (assigns target right) (quiet, stays, out) =
      let two = apart (is_quiet_path sight.program.types sight.program.variables target) (is_quiet_right sight.program.types sight.program.variables right) quiet in
      let raised : (e : Exception) → right_raises (is_same e) right ≡ true → StaysIn sight e k = λ e may. stays e (or_left ((is_same e ConstraintError && path_raises target) || right_raises (is_same e) right) (right_starts no_implicit (is_same e) right) (or_right (is_same e ConstraintError && path_raises target) (right_raises (is_same e) right) may)) in
      assigns_on sight procedure rest lower behind tds bodies s ms places vs k mode whole_control waiting body q all target.selectors target.root right two.0
      (right_on right k two.1 raised) (right_on right (Stores target.root ∷ k) two.1 raised)
  stmt_on (assigns_record target items) (quiet, stays, out) = absurd (cc quiet)
  stmt_on (frees access path) (quiet, stays, out) = absurd (cc quiet)
  stmt_on (gets target) (quiet, stays, out) =
      gets_on sight procedure rest lower behind tds bodies s ms places vs k mode whole_control waiting body q all target.selectors target.root s.input quiet
      (stays EndError refl)
  stmt_on (writes e) (quiet, stays, out) = next_is Quiet _ vs (Computes e ∷ Writes ∷ k) tt refl refl refl refl refl all ((quiet, stays ConstraintError), (tt, q))
  stmt_on (writes_text text) (quiet, stays, out) = runs _ _ vs tt refl refl refl (inl (all, tt, q))
  stmt_on (chooses branches) (quiet, stays, out) = branches_on sight procedure rest lower behind tds bodies s ms places vs k mode whole_control waiting body q all branches (quiet, stays, out)
  stmt_on (repeats condition fs spot) (quiet, stays, out) =
      let two = apart (is_quiet_condition sight.program.types sight.program.variables condition) (are_quiet sight.program.types sight.program.variables fs) quiet in
      next_is Quiet _ vs (Repeats condition fs ∷ k) tt refl refl refl refl refl all (
        (
          two.0,
          (λ may. stays ConstraintError (or_left (condition_raises condition) (stmts_raise no_calls (is_same ConstraintError) fs) may)),
          (two.1, (λ e may. stays e (or_right (is_same e ConstraintError && condition_raises condition) (stmts_raise no_calls (is_same e) fs) may)), λ o. tt),
        ),
        q,
      )
  stmt_on (counts x low high fs spot) (quiet, stays, out) =
      let one = apart (holds_elementary (variable_kind sight.program.variables x) && is_quiet_expression sight.program.types sight.program.variables low && is_quiet_expression sight.program.types sight.program.variables high) (are_quiet sight.program.types sight.program.variables fs) quiet in
      let two = apart (holds_elementary (variable_kind sight.program.variables x) && is_quiet_expression sight.program.types sight.program.variables low) (is_quiet_expression sight.program.types sight.program.variables high) one.0 in
      let three = apart (holds_elementary (variable_kind sight.program.variables x)) (is_quiet_expression sight.program.types sight.program.variables low) two.0 in
      let bounds : (expression_raises low || expression_raises high) ≡ true → StaysIn sight ConstraintError k = λ may. stays ConstraintError (or_left (expression_raises low || expression_raises high) (stmts_raise no_calls (is_same ConstraintError) fs) may) in
      next_is Quiet _ vs (Computes low ∷ Computes high ∷ Ranges x fs ∷ k) tt refl refl refl refl refl all (
        (three.1, λ may. bounds (or_left (expression_raises low) (expression_raises high) may)),
        (
          (two.1, λ may. bounds (or_right (expression_raises low) (expression_raises high) may)),
          ((three.0, λ value last. (one.1, (λ e may. stays e (or_right (is_same e ConstraintError && (expression_raises low || expression_raises high)) (stmts_raise no_calls (is_same e) fs) may)), λ o. tt)), q),
        ),
      )
  stmt_on (exits condition spot) (quiet, stays, out) = exits_on condition quiet (stays ConstraintError) (out refl)
  stmt_on (calls number actuals) (quiet, stays, out) = absurd (cc quiet)
  stmt_on (returns spot) (quiet, stays, out) = jumps_on sight procedure rest lower behind tds bodies s ms places vs k mode whole_control waiting body q all Returning tt
  stmt_on (raises e) (quiet, stays, out) = jumps_on sight procedure rest lower behind tds bodies s ms places vs k mode whole_control waiting body q all (Raising e) (stays e (same_here e))
  stmt_on (encloses ds fs hs) (quiet, stays, out) =
      let one = apart (are_quiet_declarations sight.program.types sight.program.variables ds && are_quiet sight.program.types sight.program.variables fs) (are_quiet_handlers sight.program.types sight.program.variables hs) quiet in
      let two = apart (are_quiet_declarations sight.program.types sight.program.variables ds) (are_quiet sight.program.types sight.program.variables fs) one.0 in
      record {
        places = places;
        operands = vs;
        upper = record { number = s.next; items = [] } ∷ ms;
        active = refl;
        masters = refl;
        body = record {
          x = body.x;
          found = body.found;
          live = body.live;
          of_access = body.of_access;
          scalars = body.scalars;
          holds = body.holds;
          own = (tt, body.own);
          comes = inl (
            all,
            tt,
            (
              (
                two.0,
                (λ e may. stays e (or_left (declarations_raise no_implicit (is_same e) ds || stmts_raise no_calls (untaken hs (is_same e)) fs) (handlers_raise no_calls (is_same e) hs) (or_left (declarations_raise no_implicit (is_same e) ds) (stmts_raise no_calls (untaken hs (is_same e)) fs) may))),
                (two.1, block_stays sight fs hs k (λ e may. stays e (or_left (declarations_raise no_implicit (is_same e) ds || stmts_raise no_calls (untaken hs (is_same e)) fs) (handlers_raise no_calls (is_same e) hs) (or_right (declarations_raise no_implicit (is_same e) ds) (stmts_raise no_calls (untaken hs (is_same e)) fs) may))), λ o. out (or_left (have_exit fs) (handlers_have_exit hs) o)),
                (one.1, (λ e may. stays e (or_right (declarations_raise no_implicit (is_same e) ds || stmts_raise no_calls (untaken hs (is_same e)) fs) (handlers_raise no_calls (is_same e) hs) may)), λ o. out (or_right (have_exit fs) (handlers_have_exit hs) o)),
              ),
              q,
            ),
          );
        };
        wrote = inl refl;
        mild = tt;
      }
