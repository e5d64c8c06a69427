-- The body of an operation goes on with what is left to do (7.6).

use Rattle.std.proofs.Common.{◌≡◌, ℕ, Bool, true, false, List, [], ◌∷◌, ◌++◌, refl, ◌∙◌, inl, inr}
use Rattle.std.specs.Prelude.{ℤ, Option, Some, None, Result, Ok, Err, ◌||◌, ◌&&◌, int_le, pos, ◌+ℤ◌, if◌then◌else◌}
use Rattle.std.specs.List.{slice_get, slice_set}
use Rattle.ada_values.specs.declared.operator.BinaryOperator.{BinaryOperator}
use Rattle.ada_values.specs.declared.operator.UnaryOperator.{UnaryOperator}
use Rattle.ada_values.specs.declared.fault.OperatorFault.{OperatorFault}
use Rattle.ada_values.specs.declared.value.Value.{Value as ScalarValue}
use Rattle.ada_program.specs.declared.program.TypeDefinition.{TypeDefinition}
use Rattle.ada_program.specs.declared.program.Exception.TheVariants.{ConstraintError, EndError}
use Rattle.ada_program.specs.Form.{ExpressionForm, LinksForm, no_more_links, a_link, RightForm, nothing, value_of, allocates, allocates_default, computes, StmtsForm, no_stmts, a_stmt, BranchesForm, HandlersForm, DeclarationForm, creates_pool, collects, declares, declares_record}
use Rattle.ada_program.specs.ProgramForm.{BodyForm}
use Rattle.ada_program.specs.Handling.{is_same}
use Rattle.ada_program.specs.WellFormed.{kind_among, reached_components, variable_kind}
use Rattle.ada_effects.specs.Effects.{no_implicit, declaration_raises, right_starts, binary_raises, expression_raises, links_raise, right_raises, declarations_raise}
use Rattle.ada_meaning.specs.declared.state.Value.{Value}
use Rattle.ada_meaning.specs.declared.state.Value.TheVariants.{Null, Names, Scalar, Part}
use Rattle.ada_meaning.specs.declared.state.Mode.{Mode}
use Rattle.ada_meaning.specs.declared.state.Mode.TheVariants.{Running, Raising, Exiting}
use Rattle.ada_meaning.specs.Event.{Quiet, Followed}
use Rattle.ada_meaning.specs.Frame.{Elaborates, Does, Decides, Repeats, Turns, Ranges, Counts, Exits, Handles, Closes, Leaves, Returns, Evaluates, Computes, Continues, Applies, AppliesAlone, Stores, StoresIn, Declares, Writes}
use Rattle.ada_meaning.specs.State.{Activation, Master, Item, Owned, declared, collection, record_object, storage_pool, height}
use Rattle.ada_meaning.specs.Step.{first_or, older, at, declarations_next, decided_next, is_decided, link_next, links_next, right_next, turn_next, repeats_next, turned_next, exited_next, line_next, moves, count_turn_next, counts_next, ranges_next, stored_next, store_next, received_next, receive_next, target_next, owned, put, leave_next, master_leave_next, item_leave_next}
use Rattle.ada_meaning.specs.Named.{State, Next, named, look, store, filled, as_value, unary_given, binary_given}
use Rattle.ada_meaning.specs.Run.{Event}
use Rattle.ada_quiet.specs.Quiet.{holds_elementary, is_quiet_expression, are_quiet_links, is_quiet_right, are_quiet_declarations}
use Rattle.ada_sound.proofs.Invariant.{Control}
use Rattle.ada_sound.proofs.Raising.{or_left, or_right}
use Rattle.ada_owners.proofs.Changes.{store_is}
use Rattle.ada_sound.proofs.Objects.{set_here, set_get}
use Rattle.ada_sound.proofs.OperationStarts.{apart, found_by}
use Rattle.ada_sound.proofs.Operating.{Sight, IsInto, IsScalar, AreScalars, IsVariable, AreVariables, OwnVariables, StaysIn, IsInLoop, Contains, GoesIn, HoldScalars, RunsIn, ChoosesIn, EvaluatesIn, TurnsIn, CountsIn, Quietly, Parts, Body}
use Rattle.ada_sound.proofs.OperationSteps.{acting, IsMild, After, GoesOnIn}
use Rattle.ada_sound.proofs.OperationStatements as statements

-- The newest operand, and those below it.
pub newest_scalar : (vs : List Value) → AreScalars vs → IsScalar (first_or Null vs)
newest_scalar [] all = tt
newest_scalar (v ∷ vs) all = all.0

pub older_scalars : (vs : List Value) → AreScalars vs → AreScalars (older vs)
older_scalars [] all = all
older_scalars (v ∷ vs) all = all.1

-- What operators give names nothing.
given_scalar : (r : Result ScalarValue OperatorFault) (v : Value) → as_value r ≡ Ok v → IsScalar v
given_scalar (Ok n) v is = let same : v ≡ Scalar n = cc is in rw same tt
given_scalar (Err fault) v is = absurd (cc is)

module _ (sight : Sight) (procedure : ℕ) (rest : List (Activation Value)) (lower : List Master) (behind : Control) (tds : List TypeDefinition) (bodies : List BodyForm) (s : State) (ms : List Master) (places : List Value) (k : Control) (mode : Mode) (whole_control : Control) (waiting : List Value) (body : Body sight behind ms s.heap places waiting mode whole_control) where
  abbrev pub before : List Value → State
  before vs = record s { mode = Running; control = k; activations = acting sight procedure rest lower behind places vs ∷ rest; masters = ms ++ lower }

  abbrev pub Goes : Next → Type 0
  Goes n = GoesOnIn sight procedure rest lower behind s.heap n

  -- This comes next, in these masters.
  pub go : (e : Event) (after : State) (ws : List Value) (ns : List Master) (m : Mode) (j : Control) → IsMild sight procedure rest lower behind e → after.activations ≡ acting sight procedure rest lower behind places ws ∷ rest → after.masters ≡ ns ++ lower → after.heap ≡ s.heap → after.mode ≡ m → after.control ≡ j → OwnVariables ns → AreScalars ws → GoesIn sight m j → Quietly sight behind ns j → After sight procedure rest lower behind s.heap e after
  go e after ws ns m j mild active masters heap in_mode left own all goes quietly = record {
    places = places;
    operands = ws;
    upper = ns;
    active = active;
    masters = masters;
    body = rw (heap, in_mode, left) (record {
      x = body.x;
      found = body.found;
      live = body.live;
      of_access = body.of_access;
      scalars = body.scalars;
      holds = body.holds;
      own = own;
      comes = inl (all, goes, quietly);
    });
    wrote = inl heap;
    mild = mild;
  }

  -- The innermost master is left next.
  pub parts : (e : Event) (after : State) (ws : List Value) (ns : List Master) (left : Mode) → IsMild sight procedure rest lower behind e → after.activations ≡ acting sight procedure rest lower behind places ws ∷ rest → after.masters ≡ ns ++ lower → after.heap ≡ s.heap → after.mode ≡ Running → after.control ≡ Leaves left ∷ k → OwnVariables ns → AreScalars ws → Parts sight behind ns left k → After sight procedure rest lower behind s.heap e after
  parts e after ws ns left mild active masters heap in_mode is own all quietly = record {
    places = places;
    operands = ws;
    upper = ns;
    active = active;
    masters = masters;
    body = rw (heap, in_mode, is) (record {
      x = body.x;
      found = body.found;
      live = body.live;
      of_access = body.of_access;
      scalars = body.scalars;
      holds = body.holds;
      own = own;
      comes = inr (refl, (all, quietly));
    });
    wrote = inl heap;
    mild = mild;
  }

  pub on : (after : State) (ws : List Value) (j : Control) → after.activations ≡ acting sight procedure rest lower behind places ws ∷ rest → after.masters ≡ ms ++ lower → after.heap ≡ s.heap → after.mode ≡ Running → after.control ≡ j → AreScalars ws → Quietly sight behind ms j → After sight procedure rest lower behind s.heap Quiet after
  on after ws j active masters heap in_mode left all quietly = go Quiet after ws ms Running j tt active masters heap in_mode left body.own all tt quietly

  module _ (vs : List Value) (all : AreScalars vs) where
    -- Frames with a value to take.
    pub decided_on : (fs : StmtsForm) (branches : BranchesForm) (truth : Option Bool) → RunsIn sight fs k → ChoosesIn sight branches k → Quietly sight behind ms k → Goes (decided_next named fs branches truth (before vs))
    decided_on fs branches None runs chooses q = refl
    decided_on fs branches (Some true) runs chooses q = on _ vs (Does fs ∷ k) refl refl refl refl refl all (runs, q)
    decided_on fs branches (Some false) runs chooses q = statements.branches_on sight procedure rest lower behind tds bodies s ms places vs k mode whole_control waiting body q all branches chooses

    turn_on : (condition : Option ExpressionForm) (fs : StmtsForm) → TurnsIn sight condition fs k → Quietly sight behind ms k → Goes (turn_next named condition fs (before vs))
    turn_on condition no_stmts turns q = refl
    turn_on condition (a_stmt f fs) turns q = on _ vs (Does (a_stmt f fs) ∷ Repeats condition (a_stmt f fs) ∷ k) refl refl refl refl refl all (turns.2, (turns, q))

    pub repeats_on : (condition : Option ExpressionForm) (fs : StmtsForm) → TurnsIn sight condition fs k → Quietly sight behind ms k → Goes (repeats_next named condition fs (before vs))
    repeats_on None fs turns q = turn_on None fs turns q
    repeats_on (Some e) fs turns q = on _ vs (Computes e ∷ Turns e fs ∷ k) refl refl refl refl refl all ((turns.0, turns.1), (turns, q))

    pub turned_on : (e : ExpressionForm) (fs : StmtsForm) (truth : Option Bool) → TurnsIn sight (Some e) fs k → Quietly sight behind ms k → Goes (turned_next named e fs truth (before vs))
    turned_on e fs None turns q = refl
    turned_on e fs (Some true) turns q = turn_on (Some e) fs turns q
    turned_on e fs (Some false) turns q = on _ vs k refl refl refl refl refl all q

    pub exited_on : (truth : Option Bool) → IsInLoop k → Quietly sight behind ms k → Goes (exited_next named truth (before vs))
    exited_on None inside q = refl
    exited_on (Some true) inside q = go Quiet _ [] ms Exiting k tt refl refl refl refl refl body.own tt inside q
    exited_on (Some false) inside q = on _ vs k refl refl refl refl refl all q

    pub written_on : (value : Option ℤ) → Quietly sight behind ms k → Goes (line_next named value (before vs))
    written_on None q = refl
    written_on (Some i) q = go _ _ vs ms Running k tt refl refl refl refl refl body.own all tt q

    -- Operators.
    link_on : (decided : Bool) (operator : BinaryOperator) (e : ExpressionForm) (links : LinksForm) → are_quiet_links sight.program.types sight.program.variables (a_link operator e links) ≡ true → Contains sight (links_raise (a_link operator e links)) k → Quietly sight behind ms k → Goes (link_next named decided operator e links (before vs))
    link_on decided operator e links quiet stays q =
        let two = apart (is_quiet_expression sight.program.types sight.program.variables e) (are_quiet_links sight.program.types sight.program.variables links) quiet in
        let later : Contains sight (links_raise links) k = λ may. stays (or_right (binary_raises operator || expression_raises e) (links_raise links) may) in
        by decided two.0 two.1 later
      where
        by : (d : Bool) → is_quiet_expression sight.program.types sight.program.variables e ≡ true → are_quiet_links sight.program.types sight.program.variables links ≡ true → Contains sight (links_raise links) k → Goes (link_next named d operator e links (before vs))
        by true first second later = on _ vs (Continues links ∷ k) refl refl refl refl refl all ((second, later), q)
        by false first second later =
            on _ vs (Computes e ∷ Applies operator ∷ Continues links ∷ k) refl refl refl refl refl all (
              (first, λ may. stays (or_left (binary_raises operator || expression_raises e) (links_raise links) (or_right (binary_raises operator) (expression_raises e) may))),
              ((λ may. stays (or_left (binary_raises operator || expression_raises e) (links_raise links) (or_left (binary_raises operator) (expression_raises e) may))), ((second, later), q)),
            )

    pub links_on : (links : LinksForm) → are_quiet_links sight.program.types sight.program.variables links ≡ true → Contains sight (links_raise links) k → Quietly sight behind ms k → Goes (links_next named links (before vs))
    links_on no_more_links quiet stays q = on _ vs k refl refl refl refl refl all q
    links_on (a_link operator e links) quiet stays q = link_on (is_decided named operator (named.reads_boolean (first_or Null vs))) operator e links quiet stays q

    pub right_on : (right : RightForm) → EvaluatesIn sight right k → Quietly sight behind ms k → Goes (right_next named tds right (before vs))
    right_on nothing into q = absurd into
    right_on (value_of path) into q = absurd into
    right_on (allocates access items) into q = absurd into
    right_on (allocates_default access) into q = absurd into
    right_on (computes e) into q = on _ vs (Computes e ∷ k) refl refl refl refl refl all (into, q)

    -- What an operator gives names nothing.
    pub binary_on : (operator : BinaryOperator) (v w : Value) → (r : Value) → binary_given operator v w ≡ Ok r → IsScalar r
    binary_on operator (Scalar a) (Scalar b) r is = given_scalar _ r is
    binary_on operator Null w r is = absurd (cc is)
    binary_on operator (Names o) w r is = absurd (cc is)
    binary_on operator (Part o place) w r is = absurd (cc is)
    binary_on operator (Scalar a) Null r is = absurd (cc is)
    binary_on operator (Scalar a) (Names o) r is = absurd (cc is)
    binary_on operator (Scalar a) (Part o place) r is = absurd (cc is)

    pub unary_on : (operator : UnaryOperator) (v : Value) → (r : Value) → unary_given operator v ≡ Ok r → IsScalar r
    unary_on operator (Scalar a) r is = given_scalar _ r is
    unary_on operator Null r is = absurd (cc is)
    unary_on operator (Names o) r is = absurd (cc is)
    unary_on operator (Part o place) r is = absurd (cc is)

  -- A variable gets a value.
  pub puts : (x : ℕ) (v : Value) (vs : List Value) (after : State) (ns : List Master) (j : Control) → holds_elementary (variable_kind sight.program.variables x) ≡ true → IsScalar v → AreScalars vs → after.activations ≡ acting sight procedure rest lower behind (slice_set places x v) vs ∷ rest → after.masters ≡ ns ++ lower → after.heap ≡ s.heap → after.mode ≡ Running → after.control ≡ j → OwnVariables ns → Quietly sight behind ns j → After sight procedure rest lower behind s.heap Quiet after
  puts x v vs after ns j e is all active masters heap in_mode left own quietly = record {
    places = slice_set places x v;
    operands = vs;
    upper = ns;
    active = active;
    masters = masters;
    body = rw (heap, in_mode, left) (record {
      x = body.x;
      found = body.found;
      live = body.live;
      of_access = body.of_access;
      scalars = body.scalars;
      holds = statements.put_holds sight places x v e is body.holds;
      own = own;
      comes = inl (all, tt, quietly);
    });
    wrote = inl heap;
    mild = tt;
  }

  count_turn_on : (vs : List Value) → AreScalars vs → (x : ℕ) (value last : ℤ) (fs : StmtsForm) → CountsIn sight x fs k → Quietly sight behind ms k → Goes (count_turn_next named x value last fs (before vs))
  count_turn_on vs all x value last no_stmts counts q = refl
  count_turn_on vs all x value last (a_stmt f fs) counts q =
      puts x (named.integer value) vs _ ms _ counts.0 tt all refl refl refl refl refl body.own (counts.1 (value +ℤ pos 1) last, (counts, q))

  pub counts_on : (vs : List Value) → AreScalars vs → (x : ℕ) (value last : ℤ) (fs : StmtsForm) → CountsIn sight x fs k → Quietly sight behind ms k → Goes (counts_next named x value last fs (before vs))
  counts_on vs all x value last fs counts q = by (int_le value last)
    where
      by : (b : Bool) → Goes (if b then count_turn_next named x value last fs (before vs) else moves Quiet (before vs))
      by true = count_turn_on vs all x value last fs counts q
      by false = on _ vs k refl refl refl refl refl all q

  pub ranges_on : (vs : List Value) → AreScalars vs → (x : ℕ) (fs : StmtsForm) (low high : Option ℤ) → CountsIn sight x fs k → Quietly sight behind ms k → Goes (ranges_next named x fs low high (before vs))
  ranges_on vs all x fs None high counts q = refl
  ranges_on vs all x fs (Some low) None counts q = refl
  ranges_on vs all x fs (Some low) (Some high) counts q = counts_on vs all x low high fs counts q

  -- A component of the object gets a value.
  filled_scalars : (c : ℕ) (v : Value) → IsScalar v → HoldScalars sight (filled c v body.x)
  filled_scalars c v is d w e at = elim (set_get body.x.cell.values c d v w at) [ inl here ↦ rw here.1 is | inr there ↦ body.scalars d w e there.1 ]

  stores_on : (vs : List Value) → AreScalars vs → (c : ℕ) (v : Value) (m : Mode) (after : State) → holds_elementary (kind_among (reached_components sight.program.types sight.access) c) ≡ true → IsScalar v → after.activations ≡ acting sight procedure rest lower behind places vs ∷ rest → after.masters ≡ ms ++ lower → after.heap ≡ store s.heap (Names sight.object) c v → after.mode ≡ m → after.control ≡ k → GoesIn sight m k → Quietly sight behind ms k → After sight procedure rest lower behind s.heap (Followed (Names sight.object)) after
  stores_on vs all c v m after elementary is active masters heap in_mode left goes q = record {
    places = places;
    operands = vs;
    upper = ms;
    active = active;
    masters = masters;
    body = rw (heap ∙ stored, in_mode, left) (record {
      x = filled c v body.x;
      found = set_here s.heap (sight.object).0 body.x (filled c v body.x) body.found;
      live = body.live;
      of_access = body.of_access;
      scalars = filled_scalars c v is;
      holds = body.holds;
      own = body.own;
      comes = inl (all, goes, q);
    });
    wrote = inr (body.x, c, v, body.found, (is, λ u at. body.scalars c u elementary at), heap ∙ stored);
    mild = refl;
  }
    where
      stored : store s.heap (Names sight.object) c v ≡ slice_set s.heap (sight.object).0 (filled c v body.x)
      stored = store_is s.heap sight.object body.x body.found c v

  stored_on : (vs : List Value) → AreScalars vs → (c : ℕ) (v : Value) (found : Option Value) → holds_elementary (kind_among (reached_components sight.program.types sight.access) c) ≡ true → IsScalar v → Quietly sight behind ms k → Goes (stored_next named (Names sight.object) c v found (before vs))
  stored_on vs all c v None elementary is q = refl
  stored_on vs all c v (Some w) elementary is q = stores_on vs all c v Running _ elementary is refl refl refl refl refl tt q

  pub store_on : (vs : List Value) → AreScalars vs → (o : Value) (c : ℕ) (v : Value) → IsInto sight o c → IsScalar v → Quietly sight behind ms k → Goes (store_next named o c v (look s.heap o) (before vs))
  store_on vs all o c v into is q = rw (into.0) (rw (body.found, found_by body.x body.x.stage body.live) (stored_on vs all c v (slice_get body.x.cell.values c) into.1 is q))

  -- The next number of the input goes there.
  received_on : (vs : List Value) → AreScalars vs → (c : ℕ) (input : List ℤ) (found : Option Value) → holds_elementary (kind_among (reached_components sight.program.types sight.access) c) ≡ true → StaysIn sight EndError k → Quietly sight behind ms k → Goes (received_next named (Names sight.object) c input found (before vs))
  received_on vs all c input None elementary stays q = refl
  received_on vs all c [] (Some w) elementary stays q = go _ _ [] ms (Raising EndError) k refl refl refl refl refl refl body.own tt stays q
  received_on vs all c (i ∷ is) (Some w) elementary stays q = stores_on vs all c (named.integer i) Running _ elementary tt refl refl refl refl refl tt q

  pub receive_on : (vs : List Value) → AreScalars vs → (o : Value) (c : ℕ) → IsInto sight o c → StaysIn sight EndError k → Quietly sight behind ms k → Goes (receive_next named o c (look s.heap o) (before vs))
  receive_on vs all o c into stays q = rw (into.0) (rw (body.found, found_by body.x body.x.stage body.live) (received_on vs all c s.input (slice_get body.x.cell.values c) into.1 stays q))

  -- What it gets is evaluated first.
  pub target_on : (vs : List Value) → AreScalars vs → (o : Value) (c : ℕ) (right : RightForm) → IsInto sight o c → EvaluatesIn sight right (StoresIn (Names sight.object) c ∷ k) → Quietly sight behind ms k → Goes (target_next named o c right (look s.heap o) (before vs))
  target_on vs all o c right at into q =
      rw (at.0) (rw (body.found, found_by body.x body.x.stage body.live)
      (go _ _ vs ms Running (Evaluates right ∷ StoresIn (Names sight.object) c ∷ k) refl refl refl refl refl refl body.own all tt (into, ((refl, at.1), q))))

  -- A declaration of an Integer or a Boolean.
  declaration_right : (right : RightForm) (j : Control) → is_quiet_right sight.program.types sight.program.variables right ≡ true → (right_raises (is_same ConstraintError) right ≡ true → StaysIn sight ConstraintError j) → EvaluatesIn sight right j
  declaration_right nothing j quiet stays = absurd (cc quiet)
  declaration_right (value_of path) j quiet stays = absurd (cc quiet)
  declaration_right (allocates access items) j quiet stays = absurd (cc quiet)
  declaration_right (allocates_default access) j quiet stays = absurd (cc quiet)
  declaration_right (computes e) j quiet stays = (quiet, stays)

-- Which items a master owns does not matter.
same_masters : (sight : Sight) (behind : Control) (j : Control) (m n : Master) (ms : List Master) → Quietly sight behind (m ∷ ms) j → Quietly sight behind (n ∷ ms) j
same_masters sight behind [] m n ms q = q
same_masters sight behind (Elaborates ds fs hs ∷ k) m n ms q = q
same_masters sight behind (Does fs ∷ k) m n ms (x, q) = (x, same_masters sight behind k m n ms q)
same_masters sight behind (Decides fs branches ∷ k) m n ms (x, q) = (x, same_masters sight behind k m n ms q)
same_masters sight behind (Repeats condition fs ∷ k) m n ms (x, q) = (x, same_masters sight behind k m n ms q)
same_masters sight behind (Turns e fs ∷ k) m n ms (x, q) = (x, same_masters sight behind k m n ms q)
same_masters sight behind (Ranges x fs ∷ k) m n ms (y, q) = (y, same_masters sight behind k m n ms q)
same_masters sight behind (Counts x value last fs ∷ k) m n ms (y, q) = (y, same_masters sight behind k m n ms q)
same_masters sight behind (Exits ∷ k) m n ms (x, q) = (x, same_masters sight behind k m n ms q)
same_masters sight behind (Handles hs ∷ k) m n ms (x, q) = (x, same_masters sight behind k m n ms q)
same_masters sight behind (Closes ∷ k) m n ms q = q
same_masters sight behind (Evaluates right ∷ k) m n ms (x, q) = (x, same_masters sight behind k m n ms q)
same_masters sight behind (Computes e ∷ k) m n ms (x, q) = (x, same_masters sight behind k m n ms q)
same_masters sight behind (Continues links ∷ k) m n ms (x, q) = (x, same_masters sight behind k m n ms q)
same_masters sight behind (Applies operator ∷ k) m n ms (x, q) = (x, same_masters sight behind k m n ms q)
same_masters sight behind (AppliesAlone operator ∷ k) m n ms (x, q) = (x, same_masters sight behind k m n ms q)
same_masters sight behind (Stores x ∷ k) m n ms (y, q) = (y, same_masters sight behind k m n ms q)
same_masters sight behind (Declares x ∷ k) m n ms (y, q) = (y, same_masters sight behind k m n ms q)
same_masters sight behind (StoresIn v c ∷ k) m n ms (x, q) = (x, same_masters sight behind k m n ms q)
same_masters sight behind (Writes ∷ k) m n ms (x, q) = (x, same_masters sight behind k m n ms q)
same_masters sight behind (Returns actuals references ∷ k) m n ms (x, none, q) = absurd (cc none)
same_masters sight behind (f ∷ k) m n ms q = absurd q

-- The declarations of a block, or of the body.
module _ (sight : Sight) (procedure : ℕ) (rest : List (Activation Value)) (lower : List Master) (behind : Control) (tds : List TypeDefinition) (bodies : List BodyForm) (s : State) (places vs : List Value) (k : Control) (mode : Mode) (whole_control : Control) (waiting : List Value) (all : AreScalars vs) where
  pub elaborates_on : (ms : List Master) (ds : List DeclarationForm) (fs : StmtsForm) (hs : HandlersForm) (body : Body sight behind ms s.heap places waiting mode whole_control) → Quietly sight behind ms (Elaborates ds fs hs ∷ k) → GoesOnIn sight procedure rest lower behind s.heap (declarations_next named tds ds fs hs (before sight procedure rest lower behind tds bodies s ms places k mode whole_control waiting body vs))
  elaborates_on [] ds fs hs body q = absurd q
  elaborates_on (m ∷ ms) [] fs hs body ((quiet, stays, runs, handles), q) =
      go sight procedure rest lower behind tds bodies s (m ∷ ms) places k mode whole_control waiting body Quiet _ vs (m ∷ ms) Running (Does fs ∷ Handles hs ∷ Closes ∷ k) tt refl refl refl refl refl body.own all tt
      (runs, (handles, (tt, q)))
  elaborates_on (m ∷ ms) (creates_pool p ∷ ds) fs hs body ((quiet, stays, runs, handles), q) = absurd (cc quiet)
  elaborates_on (m ∷ ms) (collects access ∷ ds) fs hs body ((quiet, stays, runs, handles), q) = absurd (cc quiet)
  elaborates_on (m ∷ ms) (declares_record x t initial ∷ ds) fs hs body ((quiet, stays, runs, handles), q) = absurd (cc quiet)
  elaborates_on (m ∷ ms) (declares x right ∷ ds) fs hs body ((quiet, stays, runs, handles), q) =
      let two = apart (holds_elementary (variable_kind sight.program.variables x) && is_quiet_right sight.program.types sight.program.variables right) (are_quiet_declarations sight.program.types sight.program.variables ds) quiet in
      let one = apart (holds_elementary (variable_kind sight.program.variables x)) (is_quiet_right sight.program.types sight.program.variables right) two.0 in
      go sight procedure rest lower behind tds bodies s (m ∷ ms) places k mode whole_control waiting body Quiet _ vs (m ∷ ms) Running (Evaluates right ∷ Declares x ∷ Elaborates ds fs hs ∷ k) tt refl refl refl refl refl body.own all tt (
        declaration_right sight procedure rest lower behind tds bodies s (m ∷ ms) places k mode whole_control waiting body right (Declares x ∷ Elaborates ds fs hs ∷ k) one.1
            (λ may. stays ConstraintError (or_left (declaration_raises no_implicit (is_same ConstraintError) (declares x right)) (declarations_raise no_implicit (is_same ConstraintError) ds) (or_left (right_raises (is_same ConstraintError) right) (right_starts no_implicit (is_same ConstraintError) right) may))),
        (one.0, ((two.1, (λ e may. stays e (or_right (declaration_raises no_implicit (is_same e) (declares x right)) (declarations_raise no_implicit (is_same e) ds) may)), runs, handles), q)),
      )

  pub declares_on : (ms : List Master) (x : ℕ) (v : Value) → IsScalar v → (body : Body sight behind ms s.heap places waiting mode whole_control) → Quietly sight behind ms (Declares x ∷ k) → After sight procedure rest lower behind s.heap Quiet (owned (declared x) (put x v (before sight procedure rest lower behind tds bodies s ms places k mode whole_control waiting body vs)))
  declares_on [] x v is body q = absurd q
  declares_on (m ∷ ms) x v is body (e, q) =
      puts sight procedure rest lower behind tds bodies s (m ∷ ms) places k mode whole_control waiting body x v vs _ (record m { items = record { number = height ((m ∷ ms) ++ lower); owned = declared x } ∷ m.items } ∷ ms) k e is all refl refl refl refl refl
      ((tt, body.own.0), body.own.1) (more k q)
    where
      more : (j : Control) → Quietly sight behind (m ∷ ms) j → Quietly sight behind (record m { items = record { number = height ((m ∷ ms) ++ lower); owned = declared x } ∷ m.items } ∷ ms) j
      more j q' = same_masters sight behind j m _ ms q'

  -- A master is left.
  pub leaves_on : (ms : List Master) (left : Mode) (body : Body sight behind ms s.heap places waiting mode whole_control) → Parts sight behind ms left k → GoesOnIn sight procedure rest lower behind s.heap (leave_next named tds left (ms ++ lower) (before sight procedure rest lower behind tds bodies s ms places k mode whole_control waiting body vs))
  leaves_on [] left body q = absurd q
  leaves_on (m ∷ ms) left body (goes, q) = by m.items refl body.own.0
    where
      by : (items : List Item) → m.items ≡ items → AreVariables items → GoesOnIn sight procedure rest lower behind s.heap (master_leave_next named tds left m.number items (before sight procedure rest lower behind tds bodies s (m ∷ ms) places k mode whole_control waiting body vs))
      by [] is own =
          go sight procedure rest lower behind tds bodies s (m ∷ ms) places k mode whole_control waiting body _ _ vs ms left k tt refl refl refl refl refl body.own.1 all goes q
      by (item ∷ items) is own = one item.owned own.0
        where
          one : (owned' : Owned) → IsVariable owned' → GoesOnIn sight procedure rest lower behind s.heap (item_leave_next named tds m.number item owned' (at (Leaves left ∷ k) (before sight procedure rest lower behind tds bodies s (m ∷ ms) places k mode whole_control waiting body vs)))
          one (declared x) v =
              parts sight procedure rest lower behind tds bodies s (m ∷ ms) places k mode whole_control waiting body _ _ vs (record m { items = items } ∷ ms) left tt refl (rw is refl) refl refl refl (own.1, body.own.1) all (goes, q)
          one (collection access pool) v = absurd v
          one (record_object t) v = absurd v
          one (storage_pool declaration number) v = absurd v
