-- Statements of a body that shuns some access types.

use Rattle.std.proofs.Common.{◌≡◌, ℕ, Bool, true, false, ◌&&◌, List, [], ◌∷◌, map, Option, Some, None, refl, sym, ap, ◌∙◌, subst, ◌⊎◌, inl, inr}
use Rattle.std.specs.Prelude.{is_some, ℤ, pos, ◌+ℤ◌, int_le, if◌then◌else◌, not}
use Rattle.std.specs.List.{list_all, slice_get, slice_set}
use Rattle.std.proofs.lemmas.Bool.{and_from, and_parts, or_cases, or_left, or_right}
use Rattle.ada_program.specs.declared.program.TypeDefinition.{TypeDefinition}
use Rattle.ada_program.specs.Form.{ExpressionForm, StmtForm, skips, assigns, assigns_record, frees, gets, writes, writes_text, chooses, repeats, counts, exits, calls, returns, raises, encloses, StmtsForm, no_stmts, a_stmt, BranchesForm, otherwise, a_branch, HandlersForm, DeclarationForm, creates_pool, collects, declares, declares_record}
use Rattle.ada_program.specs.ProgramForm.{TypeForm, type_form}
use Rattle.ada_program.specs.Typed.{reached_of, words_of}
use Rattle.ada_program.specs.WellFormed.{finalization_of, object_named}
use Rattle.ada_parts.specs.declared.tasks.Direction.TheVariants.{PartsFirst}
use Rattle.ada_meaning.specs.declared.event.Birth.TheVariants.{Copy, Creation}
use Rattle.ada_meaning.specs.declared.state.Mode.TheVariants.{Raising, Exiting, Returning}
use Rattle.ada_meaning.specs.declared.state.Value.{Value}
use Rattle.ada_meaning.specs.Frame.{begins}
use Rattle.ada_meaning.specs.Frame as frame
use Rattle.ada_meaning.specs.State.{Item, Master, height, record_object}
use Rattle.ada_parts.specs.Task.{Task}
use Rattle.ada_meaning.specs.Step.{moves, all_tasks, record_tasks, has_parts, at, entered, initial_values, made, owned, places, put, record_cell, with_places, branches_next, decided_next, turn_next, repeats_next, turned_next, count_turn_next, ranges_next, exit_next, exited_next, stmt_next, stmts_next, line_next, declarations_next}
use Rattle.ada_meaning.specs.Named.{State, named, an_integer, create, created}
use Rattle.ada_meaning.specs.Event.{Quiet}
use Rattle.ada_quiet.specs.Idle.{holds_parts}
use Rattle.ada_reaching.specs.Apart.{IsLeftIn, IsLeftOf, whole, whole_in}
use Rattle.ada_reaching.specs.Reaching.{AssignsApart, InMasters, begins_anew}
use Rattle.ada_reaching.specs.Forms.{may_assign, may_copy_named, may_replace, may_fill, may_declare, may_own, may_follow, may_end, record_path_shuns, expression_shuns, condition_shuns, item_shuns, actual_shuns, declaration_shuns, declarations_shun, statement_shuns, statements_shun, branches_shun, handlers_shun}
use Rattle.ada_reaching.specs.Law.{AreApart, AllGoOn}
use Rattle.ada_reaching.proofs.Going.{World, variables_in, IsRun, Runs, LeftIn, Left, On, Goes, created_run, stays, jumps, put_runs}
use Rattle.ada_reaching.proofs.Masters.{InOwn, declares_in, entered_run, grown_left, height_run, own_in, owned_run}
use Rattle.ada_reaching.proofs.Paths.{Sound, new_elsewhere, new_in_sight}
use Rattle.ada_reaching.proofs.Assigns.{assign_goes, record_assign_goes, gets_goes}
use Rattle.ada_reaching.proofs.Calls.{call_goes}
use Rattle.ada_reaching.proofs.Forms.{untreated}
use Rattle.ada_reaching.proofs.Frees.{frees_go}
use Rattle.ada_reaching.proofs.Rooted.{StatementIsRooted, StatementsAreRooted}
use Rattle.ada_reaching.proofs.Selections.{bare_object, bare_record, object_tasks}
use Rattle.ada_reaching.proofs.Treats.{begun_left, starting_left}

module _ (w : World) where
  -- An expression shuns the types.
  abbrev One : ExpressionForm → Type 0
  One e = expression_shuns w.p.types w.shuns w.apart (variables_in w) e ≡ true

  -- So it is with statements.
  abbrev All : StmtsForm → Type 0
  All fs = statements_shun w.p.types w.shuns w.apart (variables_in w) fs ≡ true

  -- The declarations that are left of a master shun the types, and so do the statements behind them and their handlers.
  abbrev elaboration_shuns : List DeclarationForm → StmtsForm → HandlersForm → Bool
  elaboration_shuns ds fs hs =
      declarations_shun w.p.types w.shuns w.apart (variables_in w) ds && statements_shun w.p.types w.shuns w.apart (variables_in w) fs
      && handlers_shun w.p.types w.shuns w.apart (variables_in w) hs

  -- So does the first of these declarations, and what is behind it.
  elaboration_parts :
      (d : DeclarationForm) (ds : List DeclarationForm) (fs : StmtsForm) (hs : HandlersForm) → elaboration_shuns (d ∷ ds) fs hs ≡ true
      → (declaration_shuns w.p.types w.shuns w.apart (variables_in w) d ≡ true) × (elaboration_shuns ds fs hs ≡ true)
  elaboration_parts d ds fs hs shun =
      let one = declaration_shuns w.p.types w.shuns w.apart (variables_in w) d in
      let others = declarations_shun w.p.types w.shuns w.apart (variables_in w) ds in
      let inner = statements_shun w.p.types w.shuns w.apart (variables_in w) fs in
      let handled = handlers_shun w.p.types w.shuns w.apart (variables_in w) hs in
      let three = and_parts ((one && others) && inner) handled shun in
      let two = and_parts (one && others) inner three.0 in
      let both = and_parts one others two.0 in
      (both.0, and_from (others && inner) handled (and_from others inner both.1 two.1) three.1)

  -- The bodies go on as a branch comes next.
  branches_go :
      (branches : BranchesForm) (s : State) → branches_shun w.p.types w.shuns w.apart (variables_in w) branches ≡ true
      → Goes w s (branches_next named branches s)
  branches_go (otherwise fs) s shun r h anew = stays w (at (frame.Does fs ∷ s.control) s) r (shun, anew, h) refl
  branches_go (a_branch e fs branches) s shun r h anew =
      let two =
      and_parts (expression_shuns w.p.types w.shuns w.apart (variables_in w) e && statements_shun w.p.types w.shuns w.apart (variables_in w) fs)
      (branches_shun w.p.types w.shuns w.apart (variables_in w) branches) shun in
      let one = and_parts (expression_shuns w.p.types w.shuns w.apart (variables_in w) e) (statements_shun w.p.types w.shuns w.apart (variables_in w) fs) two.0 in
      stays w (at (frame.Computes e ∷ frame.Decides fs branches ∷ s.control) s) r (
        one.0,
        refl,
        (
          and_from (statements_shun w.p.types w.shuns w.apart (variables_in w) fs)
              (branches_shun w.p.types w.shuns w.apart (variables_in w) branches) one.1 two.1,
          anew,
          h,
        ),
      ) refl

  -- The bodies go on once the condition of a branch is known.
  pub decided_goes :
      (fs : StmtsForm) (branches : BranchesForm) (truth : Option Bool) (s : State) → All fs
      → branches_shun w.p.types w.shuns w.apart (variables_in w) branches ≡ true
      → Goes w s (decided_next named fs branches truth s)
  decided_goes fs branches None s one more r h anew = tt
  decided_goes fs branches (Some true) s one more r h anew = stays w (at (frame.Does fs ∷ s.control) s) r (one, anew, h) refl
  decided_goes fs branches (Some false) s one more r h anew = branches_go branches s more r h anew

  -- The bodies go on as a turn of a loop begins.
  turn_goes :
      (condition : Option ExpressionForm) (fs : StmtsForm) (s : State) → condition_shuns w.p.types w.shuns w.apart (variables_in w) condition ≡ true → All fs
      → Goes w s (turn_next named condition fs s)
  turn_goes condition no_stmts s one more r h anew = tt
  turn_goes condition (a_stmt f fs) s one more r h anew =
      stays w (at (frame.Does (a_stmt f fs) ∷ frame.Repeats condition (a_stmt f fs) ∷ s.control) s) r (
        more,
        refl,
        (
          and_from (condition_shuns w.p.types w.shuns w.apart (variables_in w) condition)
              (statements_shun w.p.types w.shuns w.apart (variables_in w) (a_stmt f fs)) one more,
          anew,
          h,
        ),
      ) refl

  -- The bodies go on as a loop comes to its next turn.
  pub repeats_go :
      (condition : Option ExpressionForm) (fs : StmtsForm) (s : State) → condition_shuns w.p.types w.shuns w.apart (variables_in w) condition ≡ true → All fs
      → Goes w s (repeats_next named condition fs s)
  repeats_go None fs s one more r h anew = turn_goes None fs s one more r h anew
  repeats_go (Some e) fs s one more r h anew =
      stays w (at (frame.Computes e ∷ frame.Turns e fs ∷ s.control) s) r (
        one,
        refl,
        (
          and_from (expression_shuns w.p.types w.shuns w.apart (variables_in w) e)
              (statements_shun w.p.types w.shuns w.apart (variables_in w) fs) one more,
          anew,
          h,
        ),
      ) refl

  -- The bodies go on once the condition of a loop is known.
  pub turned_goes :
      (e : ExpressionForm) (fs : StmtsForm) (truth : Option Bool) (s : State) → One e → All fs → Goes w s (turned_next named e fs truth s)
  turned_goes e fs None s one more r h anew = tt
  turned_goes e fs (Some true) s one more r h anew = turn_goes (Some e) fs s one more r h anew
  turned_goes e fs (Some false) s one more r h anew = stays w s r h anew

  -- The bodies go on as a turn of a counting loop begins.
  count_turn_goes : (x : ℕ) (value last : ℤ) (fs : StmtsForm) (s : State) → All fs → Goes w s (count_turn_next named x value last fs s)
  count_turn_goes x value last no_stmts s all r h anew = tt
  count_turn_goes x value last (a_stmt f fs) s all r h anew =
      stays w
      (at (frame.Does (a_stmt f fs) ∷ frame.Counts x (value +ℤ pos 1) last (a_stmt f fs) ∷ s.control) (put x (an_integer value) s))
      (put_runs w x (an_integer value) s tt r) (all, refl, (all, anew, h)) refl

  -- The bodies go on as a counting loop comes to its next turn, or ends.
  pub counting_goes :
      (goes : Bool) (x : ℕ) (value last : ℤ) (fs : StmtsForm) (s : State) → All fs
      → Goes w s (if goes then count_turn_next named x value last fs s else moves Quiet s)
  counting_goes true x value last fs s all r h anew = count_turn_goes x value last fs s all r h anew
  counting_goes false x value last fs s all r h anew = stays w s r h anew

  -- The bodies go on once the bounds of a counting loop are known.
  pub ranges_go : (x : ℕ) (fs : StmtsForm) (low high : Option ℤ) (s : State) → All fs → Goes w s (ranges_next named x fs low high s)
  ranges_go x fs None high s all r h anew = tt
  ranges_go x fs (Some low) None s all r h anew = tt
  ranges_go x fs (Some low) (Some high) s all r h anew = counting_goes (int_le low high) x low high fs s all r h anew

  -- The bodies go on as an exit begins.
  exit_goes :
      (condition : Option ExpressionForm) (s : State) → condition_shuns w.p.types w.shuns w.apart (variables_in w) condition ≡ true
      → Goes w s (exit_next named condition s)
  exit_goes None s shun r h anew = jumps w Exiting s r h anew
  exit_goes (Some e) s shun r h anew = stays w (at (frame.Computes e ∷ frame.Exits ∷ s.control) s) r (shun, refl, (tt, anew, h)) refl

  -- The bodies go on once the condition of an exit is known.
  pub exited_goes : (truth : Option Bool) (s : State) → Goes w s (exited_next named truth s)
  exited_goes None s r h anew = tt
  exited_goes (Some true) s r h anew = jumps w Exiting s r h anew
  exited_goes (Some false) s r h anew = stays w s r h anew

  -- The bodies go on as a line is written.
  pub line_goes : (found : Option ℤ) (s : State) → Goes w s (line_next named found s)
  line_goes None s r h anew = tt
  line_goes (Some i) s r h anew = stays w s r h anew

  module _ (tds : List TypeDefinition) (known : map type_form tds ≡ w.p.types) (are_apart : AreApart w.p tds w.shuns w.apart) where
    -- A record that may be assigned to as a whole has no controlled parts, or is of a type of which this may be.
    assignable : (t : ℕ) → may_assign w.p.types w.apart t ≡ true → (has_parts tds t ≡ false) ⊎ (may_replace w.apart t ≡ true)
    assignable t may = elim (or_cases (not (is_some (finalization_of w.p.types t))) (may_replace w.apart t) may) [
      | inl bare ↦ inl (bare_record tds w.p.types t known bare)
      | inr assigned ↦ inr assigned
    ]

    -- The bodies go on as a statement begins.
    stmt_goes :
        (f : StmtForm) (s : State) → Sound w s → statement_shuns w.p.types w.shuns w.apart (variables_in w) f ≡ true
        → StatementIsRooted w.p.types (variables_in w) f → Goes w s (stmt_next named tds w.p.bodies f s)
    stmt_goes skips s sound shun root r h anew = stays w s r h anew
    stmt_goes (assigns target right) s sound shun root r h anew =
        let two = and_parts _ _ shun in
        assign_goes w target.selectors target.root root.0 right s sound root.1 two.0 two.1 r h anew
    stmt_goes (assigns_record target items) s sound shun root r h anew =
        let three = and_parts _ _ shun in
        let two = and_parts (record_path_shuns w.p.types w.shuns w.apart (variables_in w) target)
        (list_all (item_shuns w.p.types w.shuns w.apart (variables_in w)) items) three.0 in
        let one = and_parts _ _ two.0 in
        record_assign_goes w (has_parts tds target.record_type) target root.0 items s (assignable target.record_type three.1) sound two.0 root.1 one.0
        (ap (may_follow w.shuns) (sym root.2) ∙ one.1) two.1 r h anew
    stmt_goes (frees access path) s sound shun root r h anew =
        let two = and_parts _ _ shun in
        let one = and_parts _ _ two.0 in
        frees_go w tds are_apart.own path.selectors access path.root root.0 s sound root.1 (ap (may_end w.apart) (sym root.3) ∙ two.1)
        (ap (may_follow w.shuns) (sym root.3) ∙ one.1) one.0 r h anew
    stmt_goes (gets target) s sound shun root r h anew =
        gets_goes w target.selectors target.root root.0 s.input s sound root.1 shun r h anew
    stmt_goes (writes e) s sound shun root r h anew =
        stays w (at (frame.Computes e ∷ frame.Writes ∷ s.control) s) r (shun, refl, (tt, anew, h)) refl
    stmt_goes (writes_text text) s sound shun root r h anew = stays w s r h anew
    stmt_goes (chooses branches) s sound shun root r h anew = branches_go branches s shun r h anew
    stmt_goes (repeats condition fs spot) s sound shun root r h anew =
        stays w (at (frame.Repeats condition fs ∷ s.control) s) r (shun, anew, h) refl
    stmt_goes (counts x low high fs spot) s sound shun root r h anew =
        let three =
        and_parts (expression_shuns w.p.types w.shuns w.apart (variables_in w) low && expression_shuns w.p.types w.shuns w.apart (variables_in w) high)
        (statements_shun w.p.types w.shuns w.apart (variables_in w) fs) shun in
        let two = and_parts (expression_shuns w.p.types w.shuns w.apart (variables_in w) low)
        (expression_shuns w.p.types w.shuns w.apart (variables_in w) high) three.0 in
        stays w (at (frame.Computes low ∷ frame.Computes high ∷ frame.Ranges x fs ∷ s.control) s) r
        (two.0, refl, (two.1, refl, (three.1, anew, h))) refl
    stmt_goes (exits condition spot) s sound shun root r h anew = exit_goes condition s shun r h anew
    stmt_goes (calls procedure actuals) s sound shun root r h anew =
        let two = and_parts (list_all (actual_shuns w.p.types w.shuns w.apart (variables_in w)) actuals) (w.apart.calls procedure) shun in
        call_goes w tds are_apart procedure actuals (slice_get w.p.bodies procedure) s refl two.0 two.1 r h anew
    stmt_goes (returns spot) s sound shun root r h anew = jumps w Returning s r h anew
    stmt_goes (raises e) s sound shun root r h anew = jumps w (Raising e) s r h anew
    stmt_goes (encloses ds fs hs) s sound shun root r h anew =
        let fresh : Master = record { number = s.next; items = [] } in
        stays (record w { upper = fresh ∷ w.upper }) (entered (at (frame.Elaborates ds fs hs ∷ s.control) s))
        (entered_run w s.activations s.masters s.heap r fresh) (shun, anew, (tt, h)) refl

    -- The bodies go on as the first of some statements begins.
    pub stmts_go :
        (fs : StmtsForm) (s : State) → Sound w s → All fs → StatementsAreRooted w.p.types (variables_in w) fs
        → Goes w s (stmts_next named tds w.p.bodies fs s)
    stmts_go no_stmts s sound all root r h anew = stays w s r h anew
    stmts_go (a_stmt f fs) s sound all root r h anew =
        let two = and_parts (statement_shuns w.p.types w.shuns w.apart (variables_in w) f) (statements_shun w.p.types w.shuns w.apart (variables_in w) fs) all in
        stmt_goes f (at (frame.Does fs ∷ s.control) s) sound two.0 root r (two.1, anew, h) refl

  module _ (tds : List TypeDefinition) (known : map type_form tds ≡ w.p.types) (own : w.apart.definitions ≡ tds) where
    -- A record object that may be declared by default may be owned,
    default_owned : (t : ℕ) → may_declare w.apart t ≡ true → may_own w.apart t ≡ true
    default_owned t may = or_left (w.apart.ends t) (not (holds_parts (map type_form w.apart.definitions) t)) (and_parts (w.apart.starts t) (w.apart.ends t) may).1

    -- and so may one without controlled parts (7.6).
    bare_owned : (t : ℕ) → not (holds_parts w.p.types t) ≡ true → may_own w.apart t ≡ true
    bare_owned t bare =
        or_right (w.apart.ends t) (not (holds_parts (map type_form w.apart.definitions) t))
        (subst (λ (types : List TypeForm). not (holds_parts types t) ≡ true) (sym (ap (λ (ts : List TypeDefinition). map type_form ts) own ∙ known)) bare)

    -- So may one that gets an initial value, and there is nothing to be done for it, or it is adjusted as what is assigned is.
    filled_owned : (t : ℕ) → may_fill w.p.types w.apart t ≡ true → may_own w.apart t ≡ true
    filled_owned t may =
        let named = may_copy_named w.apart (object_named w.p.types (Some t)) in
        elim (or_cases (not (holds_parts w.p.types t)) (w.apart.ends t && named) may) [
          | inl bare ↦ bare_owned t bare
          | inr copied ↦ or_left (w.apart.ends t) (not (holds_parts (map type_form w.apart.definitions) t)) (and_parts (w.apart.ends t) named copied).0
        ]

    assigned_tasks :
        (t : ℕ) (o : Option ℕ) → object_named w.p.types (Some t) ≡ o → may_copy_named w.apart o ≡ true
        → AssignsApart w.apart PartsFirst (all_tasks tds t PartsFirst)
    assigned_tasks t None named may = absurd (cc may)
    assigned_tasks t (Some r) named may = record {
      record_type = r;
      may = may;
      left =
          subst (λ (tasks : List Task). IsLeftIn w.apart.definitions PartsFirst r tasks) (sym (object_tasks tds w.p.types t r PartsFirst known named))
          (subst (λ (ts : List TypeDefinition). IsLeftIn w.apart.definitions PartsFirst r (record_tasks ts r PartsFirst 0)) own (whole_in 0));
    }

    filled_tasks : (t : ℕ) → may_fill w.p.types w.apart t ≡ true → (all_tasks tds t PartsFirst ≡ []) ⊎ AssignsApart w.apart PartsFirst (all_tasks tds t PartsFirst)
    filled_tasks t may =
        let named = may_copy_named w.apart (object_named w.p.types (Some t)) in
        elim (or_cases (not (holds_parts w.p.types t)) (w.apart.ends t && named) may) [
          | inl bare ↦ inl (bare_object tds w.p.types t PartsFirst known bare)
          | inr copied ↦ inr (assigned_tasks t (object_named w.p.types (Some t)) refl (and_parts (w.apart.ends t) named copied).1)
        ]

    -- The bodies go on as a record object is there, which their innermost master owns, and is initialized next (3.3.1, 7.6).
    made_goes :
        (x t : ℕ) (values : List Value) (ds : List DeclarationForm) (fs : StmtsForm) (hs : HandlersForm) (s : State) (upper : List Master) → w.upper ≡ upper
        → may_declare w.apart t ≡ true → elaboration_shuns ds fs hs ≡ true → InOwn w.apart w.lower upper (λ (ns : List Master). LeftIn w ns s.control)
        → Runs w s → begins_anew s.control ≡ true
        → On w (made named tds x t Creation values (at (frame.Elaborates ds fs hs ∷ s.control) s))
    made_goes x t values ds fs hs s [] is may shun left r anew = absurd left
    made_goes x t values ds fs hs s (m ∷ ms) is may shun left r anew =
        let item : Item = record { number = height s.masters; owned = record_object t } in
        let inner : World = record w { upper = record m { items = item ∷ m.items } ∷ ms } in
        let words = words_of tds t in
        let v = created s.heap words in
        let cell = record_cell named tds t (height s.masters) values in
        let after = create s.heap words cell in
        let two = and_parts (w.apart.starts t) (w.apart.ends t) may in
        let sight = new_in_sight w s.heap r.same words in
        let placed : IsRun w (with_places (slice_set (places s) x v) s.activations) s.masters after =
        put_runs w x v (record s { heap = after }) (new_elsewhere w s.heap r.same words) (created_run w words cell s.activations s.masters s.heap r) in
        let runs = owned_run w (with_places (slice_set (places s) x v) s.activations) s.masters after placed m ms is item in
        let behind : Left inner (frame.Elaborates ds fs hs ∷ s.control) =
        (shun, anew, (((default_owned t may, height_run w s.activations s.masters s.heap r), left.0), left.1)) in
        let all : IsLeftOf w.apart.definitions PartsFirst t (all_tasks tds t PartsFirst) =
        subst (λ (ts : List TypeDefinition). IsLeftOf w.apart.definitions PartsFirst t (all_tasks ts t PartsFirst)) own whole in
        let starts = starting_left inner v Creation [] (all_tasks tds t PartsFirst) (frame.Elaborates ds fs hs ∷ s.control) sight
        (record { access = t; may = two.0; created = refl; left = all; begun = tt }) behind refl in
        stays inner (made named tds x t Creation values (at (frame.Elaborates ds fs hs ∷ s.control) s)) runs starts.0 starts.1

    -- So they do as one is there that gets what its items were: nothing is to be done for it, or it is adjusted, and nothing is called.
    pub record_goes_on :
        (x t : ℕ) (values : List Value) (s : State) (upper : List Master) → w.upper ≡ upper → may_fill w.p.types w.apart t ≡ true
        → InMasters w.apart w.lower (frame.DeclaresRecord x t) upper (λ (ns : List Master). LeftIn w ns s.control) → Runs w s
        → begins_anew s.control ≡ true → On w (made named tds x t Copy values s)
    record_goes_on x t values s [] is may left r anew = absurd left
    record_goes_on x t values s (m ∷ ms) is may left r anew =
        let item : Item = record { number = height s.masters; owned = record_object t } in
        let inner : World = record w { upper = record m { items = item ∷ m.items } ∷ ms } in
        let words = words_of tds t in
        let v = created s.heap words in
        let cell = record_cell named tds t (height s.masters) values in
        let after = create s.heap words cell in
        let placed : IsRun w (with_places (slice_set (places s) x v) s.activations) s.masters after =
        put_runs w x v (record s { heap = after }) (new_elsewhere w s.heap r.same words) (created_run w words cell s.activations s.masters s.heap r) in
        let runs = owned_run w (with_places (slice_set (places s) x v) s.activations) s.masters after placed m ms is item in
        let behind : Left inner s.control =
        grown_left w.p w.shuns w.apart w.ghosts w.unnamed w.behind w.lower item (filled_owned t may, height_run w s.activations s.masters s.heap r) m ms w.procedure
        s.control w.suspended left in
        let so = owned (record_object t) (put x v (record s { heap = after })) in
        elim (filled_tasks t may) [
          | inl none ↦ untreated inner v (begins Copy []) (all_tasks tds t PartsFirst) so none (stays inner so runs behind anew)
          | inr adjusted ↦
              let adjusts = begun_left inner v Copy [] (all_tasks tds t PartsFirst) s.control (new_in_sight w s.heap r.same words) (inr (tt, adjusted)) behind anew in
              stays inner (made named tds x t Copy values s) runs adjusts.0 adjusts.1
        ]

    -- The bodies go on as a declaration is elaborated, or the statements behind the last one come.
    pub declarations_go :
        (ds : List DeclarationForm) (fs : StmtsForm) (hs : HandlersForm) (s : State) → elaboration_shuns ds fs hs ≡ true → Runs w s
        → InOwn w.apart w.lower w.upper (λ (ns : List Master). LeftIn w ns s.control) → begins_anew s.control ≡ true
        → AllGoOn (On w) (declarations_next named tds ds fs hs s)
    declarations_go [] fs hs s shun r left anew =
        let three = and_parts (true && statements_shun w.p.types w.shuns w.apart (variables_in w) fs)
        (handlers_shun w.p.types w.shuns w.apart (variables_in w) hs) shun in
        let closes = own_in w.apart w.lower frame.Closes w.upper (λ (ns : List Master). LeftIn w ns s.control) refl left in
        stays w (at (frame.Does fs ∷ frame.Handles hs ∷ frame.Closes ∷ s.control) s) r
        ((and_parts true (statements_shun w.p.types w.shuns w.apart (variables_in w) fs) three.0).1, refl, (three.1, refl, (tt, anew, closes))) refl
    declarations_go (creates_pool pool ∷ ds) fs hs s shun r left anew = absurd (cc)
    declarations_go (collects access ∷ ds) fs hs s shun r left anew = absurd (cc)
    declarations_go (declares x right ∷ ds) fs hs s shun r left anew =
        let three = elaboration_parts (declares x right) ds fs hs shun in
        let more : InMasters w.apart w.lower (frame.Elaborates ds fs hs) w.upper (λ (ns : List Master). LeftIn w ns s.control) =
        own_in w.apart w.lower (frame.Elaborates ds fs hs) w.upper (λ (ns : List Master). LeftIn w ns s.control) refl left in
        let declared =
        declares_in w.apart w.lower (frame.Declares x) w.upper (λ (ns : List Master). LeftIn w ns s.control)
        (λ (ns : List Master). LeftIn w ns (frame.Elaborates ds fs hs ∷ s.control)) refl left (three.1, anew, more) in
        stays w (at (frame.Evaluates right ∷ frame.Declares x ∷ frame.Elaborates ds fs hs ∷ s.control) s) r (three.0, refl, (tt, refl, declared)) refl
    declarations_go (declares_record x t None ∷ ds) fs hs s shun r left anew =
        let three = elaboration_parts (declares_record x t None) ds fs hs shun in
        made_goes x t (initial_values named (reached_of tds t)) ds fs hs s w.upper refl three.0 three.1 left r anew
    declarations_go (declares_record x t (Some items) ∷ ds) fs hs s shun r left anew =
        let three = elaboration_parts (declares_record x t (Some items)) ds fs hs shun in
        let two = and_parts (may_fill w.p.types w.apart t) (list_all (item_shuns w.p.types w.shuns w.apart (variables_in w)) items) three.0 in
        let more : InMasters w.apart w.lower (frame.Elaborates ds fs hs) w.upper (λ (ns : List Master). LeftIn w ns s.control) =
        own_in w.apart w.lower (frame.Elaborates ds fs hs) w.upper (λ (ns : List Master). LeftIn w ns s.control) refl left in
        let declared =
        declares_in w.apart w.lower (frame.DeclaresRecord x t) w.upper (λ (ns : List Master). LeftIn w ns s.control)
        (λ (ns : List Master). LeftIn w ns (frame.Elaborates ds fs hs ∷ s.control)) refl left (three.1, anew, more) in
        stays w (at (frame.Fills items ∷ frame.DeclaresRecord x t ∷ frame.Elaborates ds fs hs ∷ s.control) s) r (two.1, refl, (two.0, refl, declared)) refl
