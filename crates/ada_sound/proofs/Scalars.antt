-- Nothing relies on an Integer or a Boolean: in a well-formed program flow calls it lost, wherever it comes to.

use Rattle.std.proofs.Common.{◌≡◌, ◌≢◌, ℕ, zero, suc, Bool, true, false, ◌||◌, List, [], ◌∷◌, ◌++◌, refl, ◌⊎◌, inl, inr}
use Rattle.std.specs.Prelude.{Option, Some, None, if◌then◌else◌}
use Rattle.std.specs.List.{list_all, slice_get, slice_set}
use Rattle.std.proofs.lemmas.Bool.{and_parts}
use Rattle.ada_text.specs.declared.spot.Spot.{Spot}
use Rattle.ada_program.specs.declared.program.Program.{Program}
use Rattle.ada_program.specs.declared.program.VariableKind.{VariableKind}
use Rattle.ada_program.specs.declared.program.VariableKind.TheVariants as variable
use Rattle.ada_program.specs.Form.{PathForm, ExpressionForm, RightForm, nothing, value_of, allocates, allocates_default, computes, DeclarationForm, creates_pool, collects, declares, declares_record, StmtForm, skips, assigns, assigns_record, frees, gets, writes, writes_text, chooses, repeats, counts, exits, calls, returns, raises, encloses, StmtsForm, no_stmts, a_stmt, BranchesForm, otherwise, a_branch, HandlersForm, no_handlers, a_handler, ActualForm, in_value, in_null, in_access, in_record, in_out_path, in_out_access, in_out_component, in_out_record}
use Rattle.ada_program.specs.ProgramForm.{TypeForm, VariableForm, program_form, seen_in}
use Rattle.ada_program.specs.WellFormed.{access_of, variable_kind, is_borrower, selectors_kind, path_access, right_fits, initial_fits, is_freed_by, statement_fits, stmts_fit, branches_fit, handlers_fit, Profile, callable_in, value_access, root_kind, is_record_object, names_borrower, actual_fits, actuals_fit, suits_profile}
use Rattle.ada_effects.specs.Effects.{expression_raises, path_raises, record_path_raises, items_raise, actuals_raise, initial_raises, initial_starts, initial_frees, assignment_frees, endings_free, Effect, Implicit, call_raises, passes, call_frees}
use Rattle.ada_flow.specs.declared.rule.Hold.{Hold}
use Rattle.ada_flow.specs.declared.rule.Region.TheVariants.{Whole}
use Rattle.ada_flow.specs.declared.rule.Hold.TheVariants.{Null, Own, Alias, Lost, Kept}
use Rattle.ada_flow.specs.declared.rule.Rule.TheVariants.{LoopState, FormalNotOwned}
use Rattle.ada_flow.specs.Flow.{Holds, hold_at, variable_access, join, join_option, Outcome, faults, goes, also_raises, then_flow, raising_if, ends_with, Use, uses_in, uses_in_right, uses_in_target, Breach, broken_among, unless_broken, using_paths, computed, left_by_move, without_value, without_values, moved_by_right, right_hold, evaluation_raises, gives, gives_seen, without_alias, without_aliases, without_freed, without_freed_option, loses, initializes, finalizes, uses_in_start, uses_in_assignment, left_by_call, uses_in_actuals, behind_end, freed, released, way_reached, freed_behind, frees_seen, gets_path, either_of, are_as_good, opened_hold, opened, opened_target, opened_by, opened_by_all, opened_by_branches, opened_by_handlers, ends_turn, left_with, is_left, condition_flow, loop_flow, Gone, gone_with, declared_at, uses_in_initial, without_types, without_variables, if_own, left, left_option, leaves_block, left_finalized, handled, Around, in_loop, in_block, exit_of, exit_flow, declaration_flow, declarations_flow, bounds_flow, counting_start, begins_pair, stmt_flow, stmts_flow, branches_flow, handlers_flow, all_touched, touched, touched_hold, touched_by_all, variable_of, opened_by_actuals, handed_back, left_unkept, unless_kept, first_kept, others_kept, Keeping, all_give_back, formal_hold, first_holds, kept_at}
use Rattle.ada_flow.specs.Tracking.{no_tracks}
use Rattle.ada_typed.proofs.Bodies.{SeenFits}
use Rattle.ada_sound.proofs.Assigned.{root_or_none}
use Rattle.ada_sound.specs.Agreement.{Place, Turning, Comes, here, behind, in_branches, in_body, in_count, in_enclosed, ComesBy, in_others, in_this, in_next, ComesTo, to_this, to_next, ComesInside, in_statements, in_handlers, IsFlowAt}
use Rattle.ada_sound.proofs.Values.{read_same, read_other, same_or_not}
use Rattle.ada_program.specs.declared.program.FormalMode.{FormalMode}
use Rattle.ada_program.specs.declared.program.FormalMode.TheVariants.{In, InOut}
use Rattle.ada_typed.proofs.Actuals.{given_kind}
use Rattle.ada_sound.specs.Untracked.{untracked}

-- What is lost stays lost where ways meet.
join_lost : (a b : Holds) (x : ℕ) → hold_at a x ≡ Lost → hold_at b x ≡ Lost → hold_at (join a b) x ≡ Lost
join_lost [] b x e f = refl
join_lost (g ∷ gs) [] x e f = refl
join_lost (g ∷ gs) (h ∷ hs) zero e f = rw e refl
join_lost (g ∷ gs) (h ∷ hs) (suc x) e f = join_lost gs hs x e f

-- It does so behind a call.
alias_lost : (b : Bool) → without_alias b Lost ≡ Lost
alias_lost true = refl
alias_lost false = refl

freed_lost : (variables : List VariableForm) (may : ℕ → Bool) (holds : Holds) (x : ℕ) → hold_at holds x ≡ Lost → hold_at (without_freed variables may holds) x ≡ Lost
freed_lost [] may holds x e = refl
freed_lost (v ∷ vs) may [] x e = refl
freed_lost (v ∷ vs) may (h ∷ hs) zero e = rw e (alias_lost _)
freed_lost (v ∷ vs) may (h ∷ hs) (suc x) e = freed_lost vs may hs x e

-- And behind a block.
own_lost : (b : Bool) → if_own b Lost ≡ Lost
own_lost true = refl
own_lost false = refl

types_lost : (variables : List VariableForm) (types : List ℕ) (holds : Holds) (x : ℕ) → hold_at holds x ≡ Lost → hold_at (without_types variables types holds) x ≡ Lost
types_lost [] types holds x e = refl
types_lost (v ∷ vs) types [] x e = refl
types_lost (v ∷ vs) types (h ∷ hs) zero e = rw e (own_lost _)
types_lost (v ∷ vs) types (h ∷ hs) (suc x) e = types_lost vs types hs x e

one_lost : (holds : Holds) (y x : ℕ) → hold_at holds x ≡ Lost → hold_at (slice_set holds y Lost) x ≡ Lost
one_lost holds y x e = go (same_or_not x y)
  where
    go : (x ≡ y) ⊎ (x ≢ y) → hold_at (slice_set holds y Lost) x ≡ Lost
    go (inl same) = rw same (elim (read_same holds y Lost Lost) [ inl is ↦ is | inr is ↦ is ])
    go (inr ne) = rw (read_other holds y x Lost Lost ne) e

variables_lost : (xs : List ℕ) (holds : Holds) (x : ℕ) → hold_at holds x ≡ Lost → hold_at (without_variables xs holds) x ≡ Lost
variables_lost [] holds x e = e
variables_lost (y ∷ ys) holds x e = variables_lost ys (slice_set holds y Lost) x (one_lost holds y x e)

left_lost : (variables : List VariableForm) (gone : Gone) (holds : Holds) (x : ℕ) → hold_at holds x ≡ Lost → hold_at (left variables gone holds) x ≡ Lost
left_lost variables gone holds x e =
    variables_lost gone.variables (without_types variables gone.types holds) x (types_lost variables gone.types holds x e)

-- It does so behind the end of an object.
aliases_lost : (variables : List VariableForm) (t : ℕ) (holds : Holds) (x : ℕ) → hold_at holds x ≡ Lost → hold_at (without_aliases variables t holds) x ≡ Lost
aliases_lost [] t holds x e = refl
aliases_lost (v ∷ vs) t [] x e = refl
aliases_lost (v ∷ vs) t (h ∷ hs) zero e = rw e (alias_lost _)
aliases_lost (v ∷ vs) t (h ∷ hs) (suc x) e = aliases_lost vs t hs x e

-- At first each variable is.
formal_lost : (m : FormalMode) (kind : VariableKind) → access_of (Some kind) ≡ None → formal_hold m kind ≡ Lost
formal_lost In variable.Integer none = refl
formal_lost In variable.Boolean none = refl
formal_lost In (variable.Access access) none = absurd (cc none)
formal_lost In (variable.Record object) none = absurd (cc none)
formal_lost InOut variable.Integer none = refl
formal_lost InOut variable.Boolean none = refl
formal_lost InOut (variable.Access access) none = absurd (cc none)
formal_lost InOut (variable.Record object) none = absurd (cc none)

first_lost : (ms : List FormalMode) (vs : List VariableForm) (x : ℕ) → variable_access vs x ≡ None → hold_at (first_holds ms vs) x ≡ Lost
first_lost ms [] x none = refl
first_lost [] (v ∷ vs) zero none = refl
first_lost [] (v ∷ vs) (suc x) none = first_lost [] vs x none
first_lost (m ∷ ms) (v ∷ vs) zero none = formal_lost m v.kind none
first_lost (m ∷ ms) (v ∷ vs) (suc x) none = first_lost ms vs x none

-- What is assigned to an Integer or a Boolean is one.
right_lost : (borrows : Bool) (types : List TypeForm) (variables : List VariableForm) (kind : Option VariableKind) (right : RightForm) (holds : Holds) → right_fits types variables kind right ≡ true → access_of kind ≡ None → right_hold no_tracks borrows right holds ≡ Lost
right_lost borrows types variables kind (computes e) holds fits none = refl
right_lost borrows types variables None right holds fits none = absurd (cc fits)
right_lost borrows types variables (Some variable.Integer) right holds fits none = absurd (cc fits)
right_lost borrows types variables (Some variable.Boolean) right holds fits none = absurd (cc fits)
right_lost borrows types variables (Some (variable.Access access)) right holds fits none = absurd (cc none)
right_lost borrows types variables (Some (variable.Record t)) right holds fits none = absurd (cc none)

-- A record object is known by a type.
record_some : (k : Option VariableKind) (t : ℕ) → is_record_object t k ≡ true → access_of k ≡ None → ⊥
record_some None t e none = cc e
record_some (Some variable.Integer) t e none = cc e
record_some (Some variable.Boolean) t e none = cc e
record_some (Some (variable.Access access)) t e none = cc e
record_some (Some (variable.Record object)) t e none = cc none

-- What has no access type is no access value.
none_value : (of_record : Bool) (k : Option VariableKind) → access_of k ≡ None → value_access (root_kind of_record k) ≡ None
none_value b None none = refl
none_value true (Some variable.Integer) none = refl
none_value false (Some variable.Integer) none = refl
none_value true (Some variable.Boolean) none = refl
none_value false (Some variable.Boolean) none = refl
none_value b (Some (variable.Access access)) none = absurd (cc none)
none_value b (Some (variable.Record object)) none = absurd (cc none)

module _ (types : List TypeForm) (variables : List VariableForm) (texts exceptions : List (List ℕ)) (callable : List Profile) where
  -- All variables without an access type are lost.
  abbrev Scalars : Holds → Type 0
  Scalars holds = (x : ℕ) → variable_access variables x ≡ None → hold_at holds x ≡ Lost

  abbrev OnWay : Option Holds → Type 0
  OnWay None = Unit {0}
  OnWay (Some holds) = Scalars holds

  -- So they are wherever an outcome leads.
  abbrev Keeps : Outcome → Type 0
  Keeps (faults spot rule) = Unit {0}
  Keeps (goes normal raising) = OnWay normal × OnWay raising

  -- A variable has another hold.
  set_keeps : (holds : Holds) (y : ℕ) (h : Hold) → (variable_access variables y ≡ None → h ≡ Lost) → Scalars holds → Scalars (slice_set holds y h)
  set_keeps holds y h new s x none = go (same_or_not x y)
    where
      here_lost : variable_access variables y ≡ None → (hold_at (slice_set holds y h) y ≡ h) ⊎ (hold_at (slice_set holds y h) y ≡ Lost) → hold_at (slice_set holds y h) y ≡ Lost
      here_lost n (inl e) = rw e (new n)
      here_lost n (inr e) = e

      go : (x ≡ y) ⊎ (x ≢ y) → hold_at (slice_set holds y h) x ≡ Lost
      go (inl e) = rw e (here_lost (rw e at none) (read_same holds y h Lost))
      go (inr ne) = rw (read_other holds y x h Lost ne) (s x none)

  without_keeps : (ys : List ℕ) (holds : Holds) → Scalars holds → Scalars (without_values ys holds)
  without_keeps [] holds s = s
  without_keeps (y ∷ ys) holds s = without_keeps ys (without_value y holds) (set_keeps holds y (left_by_move (hold_at holds y)) (λ n. rw (s y n) refl) s)

  join_keeps : (a b : Option Holds) → OnWay a → OnWay b → OnWay (join_option a b)
  join_keeps None b p q = q
  join_keeps (Some a) None p q = p
  join_keeps (Some a) (Some b) p q = λ x none. join_lost a b x (p x none) (q x none)

  if_keeps : (b : Bool) (holds : Holds) → Scalars holds → OnWay (raising_if b holds)
  if_keeps false holds s = tt
  if_keeps true holds s = s

  ends_keep : (b : Bool) (before after : Holds) → Scalars before → Scalars after → Keeps (ends_with b before after)
  ends_keep b before after s k = (k, if_keeps b before s)

  raises_keeps : (before : Option Holds) (o : Outcome) → OnWay before → Keeps o → Keeps (also_raises before o)
  raises_keeps before (faults spot rule) b k = tt
  raises_keeps before (goes normal raising) b k = (k.0, join_keeps before raising b k.1)

  then_keeps : (o : Outcome) (more : Holds → Outcome) → Keeps o → ((holds : Holds) → Scalars holds → Keeps (more holds)) → Keeps (then_flow o more)
  then_keeps (faults spot rule) more k m = tt
  then_keeps (goes None raising) more k m = (tt, k.1)
  then_keeps (goes (Some holds) raising) more k m = raises_keeps raising (more holds) k.1 (m holds k.0)

  unless_keeps : (b : Option Breach) (more : Outcome) → Keeps more → Keeps (unless_broken b more)
  unless_keeps None more k = k
  unless_keeps (Some breach) more k = tt

  using_keeps : (uses : List Use) (holds : Holds) (more : Outcome) → Keeps more → Keeps (using_paths no_tracks uses holds more)
  using_keeps uses holds more k = unless_keeps (broken_among no_tracks holds uses) more k

  either_keeps : (a b : Outcome) → Keeps a → Keeps b → Keeps (either_of a b)
  either_keeps (faults spot rule) b k m = tt
  either_keeps (goes normal raising) (faults spot rule) k m = tt
  either_keeps (goes normal raising) (goes other others) k m = (join_keeps normal other k.0 m.0, join_keeps raising others k.1 m.1)

  -- Where operations may free objects in the midst.
  less_keeps : (may : ℕ → Bool) (way : Option Holds) → OnWay way → OnWay (without_freed_option variables may way)
  less_keeps may None k = tt
  less_keeps may (Some holds) k = λ x none. freed_lost variables may holds x (k x none)

  loses_keeps : (may : ℕ → Bool) (o : Outcome) → Keeps o → Keeps (loses variables may o)
  loses_keeps may (faults spot rule) k = tt
  loses_keeps may (goes normal raising) k = (less_keeps may normal k.0, less_keeps may raising k.1)

  initializes_keeps : (implicit : Implicit) (right : RightForm) (o : Outcome) → Keeps o → Keeps (initializes variables implicit right o)
  initializes_keeps implicit nothing o k = k
  initializes_keeps implicit (value_of path) o k = k
  initializes_keeps implicit (allocates access items) o k = k
  initializes_keeps implicit (allocates_default access) o k = loses_keeps (implicit.start_frees access) o k
  initializes_keeps implicit (computes e) o k = k

  finalizes_keeps : (implicit : Implicit) (access : Option ℕ) (o : Outcome) → Keeps o → Keeps (finalizes variables implicit access o)
  finalizes_keeps implicit None o k = k
  finalizes_keeps implicit (Some t) o k = loses_keeps (implicit.end_frees t) o k

  computed_keeps : (e : ExpressionForm) (holds : Holds) → Scalars holds → Keeps (computed no_tracks e holds)
  computed_keeps e holds s = using_keeps (uses_in e) holds (ends_with (expression_raises e) holds holds) (ends_keep (expression_raises e) holds holds s s)

  condition_keeps : (condition : Option ExpressionForm) (holds : Holds) → Scalars holds → Keeps (condition_flow no_tracks condition holds)
  condition_keeps None holds s = (s, tt)
  condition_keeps (Some e) holds s = computed_keeps e holds s

  -- What is assigned.
  gives_keeps : (spot : Spot) (cleared : Bool) (x : ℕ) (right : RightForm) (holds : Holds) → right_fits types variables (variable_kind variables x) right ≡ true → Scalars holds → Keeps (gives types variables no_tracks spot cleared x right holds)
  gives_keeps spot cleared x right holds fits s =
      let borrows = is_borrower variables x in
      let after = slice_set (without_values (moved_by_right no_tracks borrows right) holds) x (right_hold no_tracks borrows right holds) in
      using_keeps (uses_in_right types spot borrows cleared None right) holds (ends_with (evaluation_raises right) holds after)
      (ends_keep (evaluation_raises right) holds after s
      (set_keeps (without_values (moved_by_right no_tracks borrows right) holds) x (right_hold no_tracks borrows right holds)
      (right_lost borrows types variables (variable_kind variables x) right holds fits) (without_keeps (moved_by_right no_tracks borrows right) holds s)))

  path_keeps : (cleared : Bool) (cs : List ℕ) (path : PathForm) (right : RightForm) (holds : Holds) → right_fits types variables (selectors_kind types (root_kind path.of_record (variable_kind variables path.root)) cs) right ≡ true → Scalars holds → Keeps (gives_seen types variables no_tracks false cleared cs path right holds)
  path_keeps cleared [] path right holds fits s =
      gives_keeps path.spot cleared path.root right holds
      (elim (root_or_none path.of_record (variable_kind variables path.root)) [ inl same ↦ rw same at fits | inr none ↦ absurd (let never : right_fits types variables None right ≡ true = rw none at fits in cc never) ]) s
  path_keeps cleared (c ∷ cs) path right holds fits s =
      using_keeps (uses_in_target path ++ uses_in_right types path.spot false cleared (Some path) right) holds (ends_with (path_raises path || evaluation_raises right) holds (without_values (moved_by_right no_tracks false right) holds))
      (ends_keep (path_raises path || evaluation_raises right) holds (without_values (moved_by_right no_tracks false right) holds) s (without_keeps (moved_by_right no_tracks false right) holds s))

  behind_end_keeps : (access : Option ℕ) (holds : Holds) → Scalars holds → Scalars (behind_end variables access holds)
  behind_end_keeps None holds s = s
  behind_end_keeps (Some t) holds s = λ x none. aliases_lost variables t holds x (s x none)

  freed_keeps : (x : ℕ) (holds : Holds) → (variable_access variables x ≡ None → ⊥) → Scalars holds → Scalars (freed variables x holds)
  freed_keeps x holds some s =
      set_keeps (behind_end variables (variable_access variables x) holds) x Null (λ n. absurd (some n))
      (behind_end_keeps (variable_access variables x) holds s)

  released_keeps : (x : ℕ) (spot : Spot) (holds : Holds) (h : Hold) → (variable_access variables x ≡ None → ⊥) → Scalars holds → Keeps (released variables x spot holds h)
  released_keeps x spot holds Null some s = (freed_keeps x holds some s, tt)
  released_keeps x spot holds (Kept r) some s = (freed_keeps x holds some s, tt)
  released_keeps x spot holds (Own r) some s = (freed_keeps x holds some s, tt)
  released_keeps x spot holds (Alias r) some s = tt
  released_keeps x spot holds Lost some s = tt

  frees_keeps : (implicit : Implicit) (cs : List ℕ) (access : ℕ) (path : PathForm) (holds : Holds) → is_freed_by types access (value_access (selectors_kind types (root_kind path.of_record (variable_kind variables path.root)) cs)) ≡ true → Scalars holds → Keeps (frees_seen types variables no_tracks false implicit cs path holds)
  frees_keeps implicit [] access path holds fits s =
      released_keeps path.root path.spot holds (hold_at holds path.root) (λ n. let freed : is_freed_by types access None ≡ true = rw (none_value path.of_record (variable_kind variables path.root) n) at fits in cc freed) s
  frees_keeps implicit (c ∷ cs) access path holds fits s =
      let own = path_access types variables path in
      let after = behind_end variables own holds in
      unless_keeps (freed_behind (way_reached types variables implicit path (hold_at holds path.root) own) (hold_at holds path.root) path.spot) (ends_with (path_raises path) after after)
      (ends_keep (path_raises path) after after (behind_end_keeps own holds s) (behind_end_keeps own holds s))

  gets_keeps : (cs : List ℕ) (path : PathForm) (holds : Holds) → Scalars holds → Keeps (gets_path no_tracks cs path holds)
  gets_keeps [] path holds s = (set_keeps holds path.root Lost (λ n. refl) s, s)
  gets_keeps (c ∷ cs) path holds s = using_keeps (uses_in_target path) holds (ends_with true holds holds) (ends_keep true holds holds s s)

  -- Loops and blocks.
  opened_keeps : (y : ℕ) (holds : Holds) → Scalars holds → Scalars (opened variables y holds)
  opened_keeps y holds s = set_keeps holds y (opened_hold (is_borrower variables y) (hold_at holds y)) (λ n. rw (s y n) refl) s

  target_keeps : (cs : List ℕ) (y : ℕ) (holds : Holds) → Scalars holds → Scalars (opened_target variables cs y holds)
  target_keeps [] y holds s = opened_keeps y holds s
  target_keeps (c ∷ cs) y holds s = s

  touches_keep : (ys : List ℕ) (holds : Holds) → Scalars holds → Scalars (all_touched ys holds)
  touches_keep [] holds s = s
  touches_keep (y ∷ ys) holds s = touches_keep ys (touched y holds) (set_keeps holds y (touched_hold (hold_at holds y)) (λ n. rw (s y n) refl) s)

  parts_keep : (ds : List DeclarationForm) (holds : Holds) → Scalars holds → Scalars (touched_by_all variables no_tracks ds holds)
  parts_keep [] holds s = s
  parts_keep (creates_pool pool ∷ ds) holds s = parts_keep ds holds s
  parts_keep (collects access ∷ ds) holds s = parts_keep ds holds s
  parts_keep (declares y right ∷ ds) holds s =
      let moved = moved_by_right no_tracks (is_borrower variables y) right in
      parts_keep ds (all_touched moved holds) (touches_keep moved holds s)
  parts_keep (declares_record y object initial ∷ ds) holds s = parts_keep ds holds s

  handing_keeps : (actuals : List ActualForm) (holds : Holds) → Scalars holds → Scalars (opened_by_actuals variables no_tracks actuals holds)
  handing_keeps [] holds s = s
  handing_keeps (in_value e ∷ rest) holds s = handing_keeps rest holds s
  handing_keeps (in_null ∷ rest) holds s = handing_keeps rest holds s
  handing_keeps (in_access path ∷ rest) holds s = handing_keeps rest holds s
  handing_keeps (in_record p ∷ rest) holds s = handing_keeps rest holds s
  handing_keeps (in_out_component path ∷ rest) holds s = handing_keeps rest holds s
  handing_keeps (in_out_record p ∷ rest) holds s = handing_keeps rest holds s
  handing_keeps (in_out_path path ∷ rest) holds s = handing_keeps rest holds s
  handing_keeps (in_out_access path ∷ rest) holds s = handing_keeps rest (opened variables path.root holds) (opened_keeps path.root holds s)

  mutual
    opens : (f : StmtForm) (holds : Holds) → Scalars holds → Scalars (opened_by variables no_tracks f holds)
    opens skips holds s = s
    opens (assigns target right) holds s =
        let moved = moved_by_right no_tracks (names_borrower variables target) right in
        target_keeps target.selectors target.root (all_touched moved holds) (touches_keep moved holds s)
    opens (assigns_record target items) holds s = s
    opens (frees access path) holds s = touches_keep (variable_of path.selectors path.root) holds s
    opens (gets target) holds s = s
    opens (writes e) holds s = s
    opens (writes_text text) holds s = s
    opens (chooses branches) holds s = opens_branches branches holds s
    opens (repeats condition fs end_spot) holds s = opens_all fs holds s
    opens (counts x low high fs end_spot) holds s = opens_all fs holds s
    opens (exits condition spot) holds s = s
    opens (calls procedure actuals) holds s = handing_keeps actuals holds s
    opens (returns spot) holds s = s
    opens (raises e) holds s = s
    opens (encloses ds fs hs) holds s =
        let inside = touched_by_all variables no_tracks ds holds in
        opens_handlers hs (opened_by_all variables no_tracks fs inside) (opens_all fs inside (parts_keep ds holds s))

    opens_all : (fs : StmtsForm) (holds : Holds) → Scalars holds → Scalars (opened_by_all variables no_tracks fs holds)
    opens_all no_stmts holds s = s
    opens_all (a_stmt f fs) holds s = opens_all fs (opened_by variables no_tracks f holds) (opens f holds s)

    opens_branches : (branches : BranchesForm) (holds : Holds) → Scalars holds → Scalars (opened_by_branches variables no_tracks branches holds)
    opens_branches (otherwise fs) holds s = opens_all fs holds s
    opens_branches (a_branch e fs branches) holds s = opens_branches branches (opened_by_all variables no_tracks fs holds) (opens_all fs holds s)

    opens_handlers : (hs : HandlersForm) (holds : Holds) → Scalars holds → Scalars (opened_by_handlers variables no_tracks hs holds)
    opens_handlers no_handlers holds s = s
    opens_handlers (a_handler choices fs hs) holds s = opens_handlers hs (opened_by_all variables no_tracks fs holds) (opens_all fs holds s)

  counting_keeps : (x : ℕ) (fs : StmtsForm) (holds : Holds) → Scalars holds → Scalars (counting_start variables no_tracks x fs holds)
  counting_keeps x fs holds s = set_keeps (opened_by_all variables no_tracks fs holds) x Lost (λ n. refl) (opens_all fs holds s)

  returning_keeps : (b : Bool) (spot : Spot) → Keeps (if b then goes None None else faults spot FormalNotOwned)
  returning_keeps true spot = (tt, tt)
  returning_keeps false spot = tt

  worse_keeps : (b : Bool) (spot : Spot) (more : Outcome) → Keeps more → Keeps (if b then more else faults spot LoopState)
  worse_keeps true spot more k = k
  worse_keeps false spot more k = tt

  turn_keeps : (start : Holds) (spot : Spot) (o : Outcome) → Keeps o → Keeps (ends_turn start spot o)
  turn_keeps start spot (faults other rule) k = tt
  turn_keeps start spot (goes None raising) k = k
  turn_keeps start spot (goes (Some holds) raising) k = worse_keeps (are_as_good holds start) spot (goes (Some holds) raising) k

  some_keeps : (b : Bool) (holds : Holds) → Scalars holds → OnWay (if b then Some holds else None)
  some_keeps true holds s = s
  some_keeps false holds s = tt

  behind_keeps : (b : Bool) (start : Holds) (o : Outcome) → Scalars start → Keeps o → Keeps (left_with b start o)
  behind_keeps b start (faults spot rule) s k = tt
  behind_keeps b start (goes normal raising) s k = (some_keeps b start s, k.1)

  loop_keeps : (condition : Option ExpressionForm) (b : Bool) (spot : Spot) (turn : Option Holds → Holds → Outcome) (start : Holds) → Scalars start → ((holds : Holds) → Scalars holds → Keeps (turn (Some start) holds)) → Keeps (loop_flow no_tracks condition b spot turn start)
  loop_keeps condition b spot turn start s t =
      behind_keeps b start _ s
      (then_keeps (condition_flow no_tracks condition start) (λ hs. ends_turn start spot (turn (Some start) hs)) (condition_keeps condition start s)
      (λ holds k. turn_keeps start spot (turn (Some start) holds) (t holds k)))

  exit_keeps : (implicit : Implicit) (start : Option Holds) (inside : Gone) (condition : Option ExpressionForm) (spot : Spot) (holds : Holds) → Scalars holds → Keeps (exit_flow variables no_tracks implicit start inside condition spot holds)
  exit_keeps implicit start inside condition spot holds s = go start (once condition)
    where
      once : (e : Option ExpressionForm) → Keeps (exit_of no_tracks e holds)
      once None = (tt, tt)
      once (Some e) = computed_keeps e holds s

      go : (start : Option Holds) → Keeps (exit_of no_tracks condition holds) → Keeps (exit_flow variables no_tracks implicit start inside condition spot holds)
      go None k = k
      go (Some start) k = worse_keeps (are_as_good (left_finalized variables implicit inside holds) start) spot (exit_of no_tracks condition holds) k

  left_keeps : (gone : Gone) (way : Option Holds) → OnWay way → OnWay (left_option variables gone way)
  left_keeps gone None k = tt
  left_keeps gone (Some holds) k = λ x none. left_lost variables gone holds x (k x none)

  block_keeps : (gone : Gone) (o : Outcome) → Keeps o → Keeps (leaves_block variables gone o)
  block_keeps gone (faults spot rule) k = tt
  block_keeps gone (goes normal raising) k = (left_keeps gone normal k.0, left_keeps gone raising k.1)

  handled_keeps : (b : Bool) (handlers : Holds → Outcome) (o : Outcome) → Keeps o → ((holds : Holds) → Scalars holds → Keeps (handlers holds)) → Keeps (handled b handlers o)
  handled_keeps b handlers (faults spot rule) k h = tt
  handled_keeps b handlers (goes normal None) k h = (k.0, tt)
  handled_keeps b handlers (goes normal (Some raising)) k h = either_keeps (goes normal (raising_if b raising)) (handlers raising) (k.0, if_keeps b raising k.1) (h raising k.1)

  declarations_keep : (implicit : Implicit) (ds : List DeclarationForm) (holds : Holds) → list_all (initial_fits types variables) ds ≡ true → Scalars holds → Keeps (declarations_flow types variables no_tracks implicit ds holds)
  declarations_keep implicit [] holds fits s = (s, tt)
  declarations_keep implicit (d ∷ ds) holds fits s =
      let parts = and_parts _ _ fits in
      then_keeps (declaration_flow types variables no_tracks implicit d holds) (declarations_flow types variables no_tracks implicit ds) (one d parts.0) (λ hs k. declarations_keep implicit ds hs parts.1 k)
    where
      one : (d : DeclarationForm) → initial_fits types variables d ≡ true → Keeps (declaration_flow types variables no_tracks implicit d holds)
      one (creates_pool pool) e = (s, tt)
      one (collects access) e = (s, tt)
      one (declares x right) e =
          let spot = declared_at variables x in
          initializes_keeps implicit right (gives types variables no_tracks spot false x right holds) (gives_keeps spot false x right holds (and_parts _ _ (and_parts _ _ e).0).1 s)
      one (declares_record x t initial) e =
          let after = slice_set holds x (Own Whole) in
          let is = (and_parts _ _ e).0 in
          let may = initial_raises initial || initial_starts implicit (λ f. true) t initial in
          let uses = uses_in_initial types (declared_at variables x) t initial in
          loses_keeps (λ u. initial_frees implicit u t initial) (using_paths no_tracks uses holds (ends_with may holds after))
          (using_keeps uses holds (ends_with may holds after)
          (ends_keep may holds after s (set_keeps holds x (Own Whole) (λ none. absurd (record_some (variable_kind variables x) t is none)) s)))

  bounds_keep : (low high : ExpressionForm) (holds : Holds) → Scalars holds → Keeps (bounds_flow no_tracks low high holds)
  bounds_keep low high holds s = then_keeps (computed no_tracks low holds) (computed no_tracks high) (computed_keeps low holds s) (λ hs k. computed_keeps high hs k)

  -- Behind a call what was lost is lost.
  -- A variable that is handed over is of an access type.
  handed_some : (kind : VariableKind) (path : PathForm) → actual_fits types variables kind (in_out_access path) ≡ true → variable_access variables path.root ≡ None → ⊥
  handed_some variable.Integer path fits none = cc fits
  handed_some variable.Boolean path fits none = cc fits
  handed_some (variable.Access access) path fits none = cc (rw (given_kind types variables (variable.Access access) (in_out_access path) path.root fits refl) at none)
  handed_some (variable.Record object) path fits none = cc fits

  handing_back : (kinds : List VariableKind) (actuals : List ActualForm) (holds : Holds) → actuals_fit types variables kinds actuals ≡ true → Scalars holds → Scalars (handed_back actuals holds)
  handing_back kinds [] holds fits s = s
  handing_back [] (a ∷ rest) holds fits s = absurd (cc fits)
  handing_back (kind ∷ kinds) (in_value e ∷ rest) holds fits s = handing_back kinds rest holds (and_parts _ _ fits).1 s
  handing_back (kind ∷ kinds) (in_null ∷ rest) holds fits s = handing_back kinds rest holds (and_parts _ _ fits).1 s
  handing_back (kind ∷ kinds) (in_access path ∷ rest) holds fits s = handing_back kinds rest holds (and_parts _ _ fits).1 s
  handing_back (kind ∷ kinds) (in_record p ∷ rest) holds fits s = handing_back kinds rest holds (and_parts _ _ fits).1 s
  handing_back (kind ∷ kinds) (in_out_component path ∷ rest) holds fits s = handing_back kinds rest holds (and_parts _ _ fits).1 s
  handing_back (kind ∷ kinds) (in_out_record p ∷ rest) holds fits s = handing_back kinds rest holds (and_parts _ _ fits).1 s
  handing_back (kind ∷ kinds) (in_out_path path ∷ rest) holds fits s = handing_back kinds rest holds (and_parts _ _ fits).1 s
  handing_back (kind ∷ kinds) (in_out_access path ∷ rest) holds fits s =
      let parts = and_parts _ _ fits in
      handing_back kinds rest (slice_set holds path.root (Own Whole)) parts.1 (set_keeps holds path.root (Own Whole) (λ none. absurd (handed_some kind path parts.0 none)) s)

  suited_back : (profile : Option Profile) (actuals : List ActualForm) (holds : Holds) → suits_profile types variables profile actuals ≡ true → Scalars holds → Scalars (handed_back actuals holds)
  suited_back None actuals holds suits s = absurd (cc suits)
  suited_back (Some profile) actuals holds suits s = handing_back profile.kinds actuals holds (and_parts _ _ suits).0 s

  spared_keeps : (b : Bool) (x : ℕ) (holds : Holds) → Scalars holds → Scalars (unless_kept b x holds)
  spared_keeps true x holds s = s
  spared_keeps false x holds s = without_keeps (x ∷ []) holds s

  unkept_keeps : (kept : Keeping) (actuals : List ActualForm) (holds : Holds) → Scalars holds → Scalars (left_unkept kept actuals holds)
  unkept_keeps kept [] holds s = s
  unkept_keeps kept (in_value e ∷ rest) holds s = unkept_keeps (others_kept kept) rest holds s
  unkept_keeps kept (in_null ∷ rest) holds s = unkept_keeps (others_kept kept) rest holds s
  unkept_keeps kept (in_access path ∷ rest) holds s = unkept_keeps (others_kept kept) rest holds s
  unkept_keeps kept (in_record p ∷ rest) holds s = unkept_keeps (others_kept kept) rest holds s
  unkept_keeps kept (in_out_component path ∷ rest) holds s = unkept_keeps (others_kept kept) rest holds s
  unkept_keeps kept (in_out_record p ∷ rest) holds s = unkept_keeps (others_kept kept) rest holds s
  unkept_keeps kept (in_out_path path ∷ rest) holds s = unkept_keeps (others_kept kept) rest holds s
  unkept_keeps kept (in_out_access path ∷ rest) holds s =
      unkept_keeps (others_kept kept) rest (unless_kept (first_kept kept) path.root holds) (spared_keeps (first_kept kept) path.root holds s)

  call_keeps : (effect : Option Effect) (holds : Holds) → Scalars holds → Scalars (left_by_call variables effect holds)
  call_keeps None holds s = s
  call_keeps (Some effect) holds s = λ x none. freed_lost variables effect.frees holds x (s x none)

  -- Statements.
  mutual
    stmt_keeps : (around : Around) (inside cleared : Bool) (f : StmtForm) (holds : Holds) → statement_fits types variables texts exceptions callable inside f ≡ true → Scalars holds → Keeps (stmt_flow types variables (untracked around) cleared f holds)
    stmt_keeps around inside cleared skips holds fits s = (s, tt)
    stmt_keeps around inside cleared (assigns target right) holds fits s =
        let implicit = around.effects.implicit in
        let o = gives_seen types variables no_tracks false cleared target.selectors target right holds in
        using_keeps (uses_in_start types variables no_tracks implicit target right) holds (initializes variables implicit right o)
        (initializes_keeps implicit right o (path_keeps cleared target.selectors target right holds (and_parts _ _ fits).0 s))
    stmt_keeps around inside cleared (assigns_record target items) holds fits s =
        let some = record_path_raises target || items_raise items in
        let may : ℕ → Bool = λ t. assignment_frees around.effects.implicit t target.record_type in
        let uses = uses_in_assignment types variables may target items in
        loses_keeps may (using_paths no_tracks uses holds (ends_with some holds holds)) (using_keeps uses holds (ends_with some holds holds) (ends_keep some holds holds s s))
    stmt_keeps around inside cleared (frees access path) holds fits s =
        let implicit = around.effects.implicit in
        finalizes_keeps implicit (path_access types variables path) (frees_seen types variables no_tracks false implicit path.selectors path holds)
        (frees_keeps implicit path.selectors access path holds (and_parts _ _ fits).0 s)
    stmt_keeps around inside cleared (gets target) holds fits s = gets_keeps target.selectors target holds s
    stmt_keeps around inside cleared (writes e) holds fits s = computed_keeps e holds s
    stmt_keeps around inside cleared (writes_text text) holds fits s = (s, tt)
    stmt_keeps around inside cleared (chooses branches) holds fits s = branches_keep around inside branches holds fits s
    stmt_keeps around inside cleared (repeats condition fs end_spot) holds fits s =
        loop_keeps condition (is_left condition fs) end_spot (λ start hs. stmts_flow types variables (in_loop start (untracked around)) fs hs) (opened_by_all variables no_tracks fs holds) (opens_all fs holds s)
        (λ hs k. stmts_keep (in_loop (Some (opened_by_all variables no_tracks fs holds)) around) true fs hs (and_parts _ _ fits).1 k)
    stmt_keeps around inside cleared (counts x low high fs end_spot) holds fits s =
        then_keeps (bounds_flow no_tracks low high holds) _ (bounds_keep low high holds s)
        (λ hs k.
        loop_keeps None true end_spot (λ start gs. stmts_flow types variables (in_loop start (untracked around)) fs gs) (counting_start variables no_tracks x fs hs) (counting_keeps x fs hs k)
        (λ gs m. stmts_keep (in_loop (Some (counting_start variables no_tracks x fs hs)) around) true fs gs (and_parts _ _ fits).1 m))
    stmt_keeps around inside cleared (exits condition spot) holds fits s = exit_keeps around.effects.implicit around.start around.inside condition spot holds s
    stmt_keeps around inside cleared (calls procedure actuals) holds fits s =
        let effect = slice_get around.effects.calls procedure in
        let left = left_by_call variables effect holds in
        let kept = kept_at around.kept procedure in
        let may = actuals_raise actuals || call_raises effect (λ e. true) in
        using_keeps (uses_in_actuals types variables (call_frees effect) [] actuals) holds (ends_with may (left_unkept kept actuals left) (handed_back actuals left))
        (ends_keep may (left_unkept kept actuals left) (handed_back actuals left) (unkept_keeps kept actuals left (call_keeps effect holds s))
        (suited_back (slice_get callable procedure) actuals left fits (call_keeps effect holds s)))
    stmt_keeps around inside cleared (returns spot) holds fits s = returning_keeps (all_give_back around.owed (left variables around.within holds)) spot
    stmt_keeps around inside cleared (raises e) holds fits s = (tt, s)
    stmt_keeps around inside cleared (encloses ds fs hs) holds fits s =
        let parts = and_parts _ _ fits in
        let more = and_parts _ _ parts.0 in
        let implicit = around.effects.implicit in
        let gone = gone_with ds in
        block_keeps gone _
        (loses_keeps (endings_free implicit gone.types) _
        (then_keeps (declarations_flow types variables no_tracks implicit ds holds) _ (declarations_keep implicit ds holds (and_parts _ _ more.0).1 s)
        (λ at k.
        handled_keeps (passes around.effects fs hs) (handlers_flow types variables (in_block gone (untracked around)) hs) (stmts_flow types variables (in_block gone (untracked around)) fs at)
        (stmts_keep (in_block gone around) inside fs at more.1 k)
        (λ gs m. handlers_keep (in_block gone around) inside hs gs parts.1 m))))

    stmts_keep : (around : Around) (inside : Bool) (fs : StmtsForm) (holds : Holds) → stmts_fit types variables texts exceptions callable inside fs ≡ true → Scalars holds → Keeps (stmts_flow types variables (untracked around) fs holds)
    stmts_keep around inside no_stmts holds fits s = (s, tt)
    stmts_keep around inside (a_stmt f fs) holds fits s =
        let parts = and_parts _ _ fits in
        then_keeps (stmt_flow types variables (untracked around) (begins_pair f fs) f holds) (stmts_flow types variables (untracked around) fs)
        (stmt_keeps around inside (begins_pair f fs) f holds parts.0 s) (λ hs k. stmts_keep around inside fs hs parts.1 k)

    branches_keep : (around : Around) (inside : Bool) (branches : BranchesForm) (holds : Holds) → branches_fit types variables texts exceptions callable inside branches ≡ true → Scalars holds → Keeps (branches_flow types variables (untracked around) branches holds)
    branches_keep around inside (otherwise fs) holds fits s = stmts_keep around inside fs holds fits s
    branches_keep around inside (a_branch e fs branches) holds fits s =
        let parts = and_parts _ _ fits in
        then_keeps (computed no_tracks e holds) _ (computed_keeps e holds s)
        (λ hs k.
        either_keeps (stmts_flow types variables (untracked around) fs hs) (branches_flow types variables (untracked around) branches hs)
        (stmts_keep around inside fs hs (and_parts _ _ parts.0).1 k) (branches_keep around inside branches hs parts.1 k))

    handlers_keep : (around : Around) (inside : Bool) (hs : HandlersForm) (holds : Holds) → handlers_fit types variables texts exceptions callable inside hs ≡ true → Scalars holds → Keeps (handlers_flow types variables (untracked around) hs holds)
    handlers_keep around inside no_handlers holds fits s = (tt, tt)
    handlers_keep around inside (a_handler choices fs hs) holds fits s =
        let parts = and_parts _ _ fits in
        either_keeps (stmts_flow types variables (untracked around) fs holds) (handlers_flow types variables (untracked around) hs holds)
        (stmts_keep around inside fs holds (and_parts _ _ parts.0).1 s) (handlers_keep around inside hs holds parts.1 s)

  -- What holds behind a form that comes to its end.
  normal_of : (o : Outcome) (mid : Holds) (raising : Option Holds) → o ≡ goes (Some mid) raising → Keeps o → Scalars mid
  normal_of o mid raising e k = (rw e at k).0

  raised_of : (o : Outcome) (normal : Option Holds) (mid : Holds) → o ≡ goes normal (Some mid) → Keeps o → Scalars mid
  raised_of o normal mid e k = (rw e at k).1

  -- Wherever flow comes to.
  mutual
    comes_keep : {around : Around} {outer place : Place} {fs : StmtsForm} {holds at : Holds} {way : List Turning} (inside : Bool) → stmts_fit types variables texts exceptions callable inside fs ≡ true → Scalars holds → Comes types variables around outer fs holds way place at → Scalars at
    comes_keep inside fits s here = s
    comes_keep {around = around} inside fits s (behind {raising = raising} {f = f} {fs = fs} {holds = holds} mid is more) =
        let parts = and_parts _ _ fits in
        comes_keep inside parts.1 (normal_of _ mid raising is (stmt_keeps around inside (begins_pair f fs) f holds parts.0 s)) more
    comes_keep inside fits s (in_branches more) = branches_comes inside (and_parts _ _ fits).0 s more
    comes_keep inside fits s (in_body {raising = raising} {condition = condition} {body = body} {holds = holds} mid is more) =
        let parts = and_parts _ _ (and_parts _ _ fits).0 in
        comes_keep true parts.1 (normal_of _ mid raising is (condition_keeps condition (opened_by_all variables no_tracks body holds) (opens_all body holds s))) more
    comes_keep inside fits s (in_count {raising = raising} {x = x} {low = low} {high = high} {body = body} {holds = holds} mid is more) =
        let parts = and_parts _ _ (and_parts _ _ fits).0 in
        comes_keep true parts.1 (counting_keeps x body mid (normal_of _ mid raising is (bounds_keep low high holds s))) more
    comes_keep inside fits s (in_enclosed more) =
        let parts = and_parts _ _ (and_parts _ _ fits).0 in
        let others = and_parts _ _ parts.0 in
        inside_comes inside (and_parts _ _ others.0).1 others.1 parts.1 s more

    branches_comes : {around : Around} {outer place : Place} {branches : BranchesForm} {holds at : Holds} {way : List Turning} (inside : Bool) → branches_fit types variables texts exceptions callable inside branches ≡ true → Scalars holds → ComesBy types variables around outer branches holds way place at → Scalars at
    branches_comes inside fits s (in_others more) = comes_keep inside fits s more
    branches_comes inside fits s (in_this {raising = raising} {e = e} {holds = holds} mid is more) =
        comes_keep inside (and_parts _ _ (and_parts _ _ fits).0).1 (normal_of _ mid raising is (computed_keeps e holds s)) more
    branches_comes inside fits s (in_next {raising = raising} {e = e} {holds = holds} mid is more) =
        branches_comes inside (and_parts _ _ fits).1 (normal_of _ mid raising is (computed_keeps e holds s)) more

    handlers_comes : {around : Around} {outer place : Place} {hs : HandlersForm} {holds at : Holds} {way : List Turning} (inside : Bool) → handlers_fit types variables texts exceptions callable inside hs ≡ true → Scalars holds → ComesTo types variables around outer hs holds way place at → Scalars at
    handlers_comes inside fits s (to_this more) = comes_keep inside (and_parts _ _ (and_parts _ _ fits).0).1 s more
    handlers_comes inside fits s (to_next more) = handlers_comes inside (and_parts _ _ fits).1 s more

    inside_comes : {around : Around} {outer place : Place} {ds : List DeclarationForm} {fs : StmtsForm} {hs : HandlersForm} {holds at : Holds} {way : List Turning} (inside : Bool) → list_all (initial_fits types variables) ds ≡ true → stmts_fit types variables texts exceptions callable inside fs ≡ true → handlers_fit types variables texts exceptions callable inside hs ≡ true → Scalars holds → ComesInside types variables around outer ds fs hs holds way place at → Scalars at
    inside_comes {around = around} inside initials statements handlers s (in_statements {raising = raising} {ds = ds} {holds = holds} mid is more) =
        comes_keep inside statements (normal_of _ mid raising is (declarations_keep around.effects.implicit ds holds initials s)) more
    inside_comes {around = around} inside initials statements handlers s (in_handlers {raising = raising} {normal = normal} {ds = ds} {body = body} {holds = holds} mid raised is at more) =
        handlers_comes inside handlers
        (raised_of _ normal raised at (stmts_keep around inside body mid statements (normal_of _ mid raising is (declarations_keep around.effects.implicit ds holds initials s)))) more

-- In a body of a well-formed program flow calls each Integer and Boolean lost.
pub scalars_lost : (program : Program) (procedure : Option ℕ) (rest : Place) (way : List Turning) (place : Place) (holds : Holds) → SeenFits (seen_in procedure (program_form program)) → IsFlowAt program procedure rest way place holds → (x : ℕ) → variable_access (seen_in procedure (program_form program)).variables x ≡ None → hold_at holds x ≡ Lost
scalars_lost program procedure rest way place holds w at =
    let p = seen_in procedure (program_form program) in
    inside_comes p.types p.variables p.texts p.exceptions (callable_in p) false w.initials_fit w.statements_fit w.handlers_fit (λ x none. first_lost p.formals p.variables x none) at
