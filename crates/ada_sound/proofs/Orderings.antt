-- What is known of variables, from most to least: what is joined, and what a loop's start is opened to.

use Rattle.std.proofs.Common.{◌≡◌, ◌≢◌, ℕ, zero, suc, Bool, true, false, ◌&&◌, List, [], ◌∷◌, refl, ◌⊎◌, inl, inr}
use Rattle.std.specs.Prelude.{Option, Some, None}
use Rattle.std.specs.List.{slice_set}
use Rattle.ada_program.specs.Form.{ActualForm, in_value, in_null, in_access, in_record, in_out_path, in_out_access, in_out_component, in_out_record, DeclarationForm, creates_pool, collects, declares, declares_record, StmtForm, skips, assigns, assigns_record, frees, gets, writes, writes_text, chooses, repeats, counts, exits, calls, returns, raises, encloses, StmtsForm, no_stmts, a_stmt, BranchesForm, otherwise, a_branch, HandlersForm, no_handlers, a_handler}
use Rattle.ada_program.specs.ProgramForm.{VariableForm}
use Rattle.ada_program.specs.WellFormed.{access_of, is_borrower, names_borrower}
use Rattle.ada_effects.specs.Effects.{Effect}
use Rattle.ada_flow.specs.declared.rule.Hold.{Hold}
use Rattle.ada_flow.specs.declared.rule.Hold.TheVariants.{Null, Kept, Own, Alias, Lost}
use Rattle.ada_flow.specs.declared.rule.Region.TheVariants.{Whole}
use Rattle.ada_flow.specs.Flow.{Holds, hold_at, join_hold, join, is_as_good, are_as_good, opened_hold, opened, opened_target, opened_by, opened_by_all, opened_by_branches, opened_by_handlers, opened_by_actuals, touched_hold, touched, all_touched, touched_by_all, moved_by_right, variable_of, without_alias, is_freed, without_freed, left_by_call}
use Rattle.ada_flow.specs.Tracking.{no_tracks}
use Rattle.ada_sound.proofs.Values.{read_other, same_or_not, lost_here}

pub good_here : (h : Hold) → is_as_good h h ≡ true
good_here Null = refl
good_here (Kept Whole) = refl
good_here (Own Whole) = refl
good_here (Alias Whole) = refl
good_here Lost = refl

pub good_lost : (h : Hold) → is_as_good h Lost ≡ true
good_lost Null = refl
good_lost (Kept Whole) = refl
good_lost (Own Whole) = refl
good_lost (Alias Whole) = refl
good_lost Lost = refl

good_then : (a b c : Hold) → is_as_good a b ≡ true → is_as_good b c ≡ true → is_as_good a c ≡ true
good_then Null Null c p q = q
good_then Null (Kept Whole) c p q = absurd (cc p)
good_then Null (Own Whole) Null p q = refl
good_then Null (Own Whole) (Kept Whole) p q = absurd (cc q)
good_then Null (Own Whole) (Own Whole) p q = refl
good_then Null (Own Whole) (Alias Whole) p q = refl
good_then Null (Own Whole) Lost p q = refl
good_then Null (Alias Whole) Null p q = refl
good_then Null (Alias Whole) (Kept Whole) p q = absurd (cc q)
good_then Null (Alias Whole) (Own Whole) p q = refl
good_then Null (Alias Whole) (Alias Whole) p q = refl
good_then Null (Alias Whole) Lost p q = refl
good_then Null Lost Null p q = refl
good_then Null Lost (Kept Whole) p q = absurd (cc q)
good_then Null Lost (Own Whole) p q = refl
good_then Null Lost (Alias Whole) p q = refl
good_then Null Lost Lost p q = refl
good_then (Kept Whole) Null c p q = absurd (cc p)
good_then (Kept Whole) (Kept Whole) c p q = q
good_then (Kept Whole) (Own Whole) Null p q = absurd (cc q)
good_then (Kept Whole) (Own Whole) (Kept Whole) p q = refl
good_then (Kept Whole) (Own Whole) (Own Whole) p q = refl
good_then (Kept Whole) (Own Whole) (Alias Whole) p q = absurd (cc q)
good_then (Kept Whole) (Own Whole) Lost p q = refl
good_then (Kept Whole) (Alias Whole) c p q = absurd (cc p)
good_then (Kept Whole) Lost Null p q = absurd (cc q)
good_then (Kept Whole) Lost (Kept Whole) p q = refl
good_then (Kept Whole) Lost (Own Whole) p q = refl
good_then (Kept Whole) Lost (Alias Whole) p q = absurd (cc q)
good_then (Kept Whole) Lost Lost p q = refl
good_then (Own Whole) Null c p q = absurd (cc p)
good_then (Own Whole) (Kept Whole) c p q = absurd (cc p)
good_then (Own Whole) (Own Whole) c p q = q
good_then (Own Whole) (Alias Whole) c p q = absurd (cc p)
good_then (Own Whole) Lost Null p q = absurd (cc q)
good_then (Own Whole) Lost (Kept Whole) p q = absurd (cc q)
good_then (Own Whole) Lost (Own Whole) p q = refl
good_then (Own Whole) Lost (Alias Whole) p q = absurd (cc q)
good_then (Own Whole) Lost Lost p q = refl
good_then (Alias Whole) Null c p q = absurd (cc p)
good_then (Alias Whole) (Kept Whole) c p q = absurd (cc p)
good_then (Alias Whole) (Own Whole) c p q = absurd (cc p)
good_then (Alias Whole) (Alias Whole) c p q = q
good_then (Alias Whole) Lost Null p q = absurd (cc q)
good_then (Alias Whole) Lost (Kept Whole) p q = absurd (cc q)
good_then (Alias Whole) Lost (Own Whole) p q = absurd (cc q)
good_then (Alias Whole) Lost (Alias Whole) p q = refl
good_then (Alias Whole) Lost Lost p q = refl
good_then Lost Null c p q = absurd (cc p)
good_then Lost (Kept Whole) c p q = absurd (cc p)
good_then Lost (Own Whole) c p q = absurd (cc p)
good_then Lost (Alias Whole) c p q = absurd (cc p)
good_then Lost Lost c p q = q

-- Two ways.
good_left : (a b : Hold) → is_as_good a (join_hold a b) ≡ true
good_left Null Null = refl
good_left Null (Kept Whole) = refl
good_left Null (Own Whole) = refl
good_left Null (Alias Whole) = refl
good_left Null Lost = refl
good_left (Kept Whole) Null = refl
good_left (Kept Whole) (Kept Whole) = refl
good_left (Kept Whole) (Own Whole) = refl
good_left (Kept Whole) (Alias Whole) = refl
good_left (Kept Whole) Lost = refl
good_left (Own Whole) Null = refl
good_left (Own Whole) (Kept Whole) = refl
good_left (Own Whole) (Own Whole) = refl
good_left (Own Whole) (Alias Whole) = refl
good_left (Own Whole) Lost = refl
good_left (Alias Whole) Null = refl
good_left (Alias Whole) (Kept Whole) = refl
good_left (Alias Whole) (Own Whole) = refl
good_left (Alias Whole) (Alias Whole) = refl
good_left (Alias Whole) Lost = refl
good_left Lost b = refl

good_right : (a b : Hold) → is_as_good b (join_hold a b) ≡ true
good_right Null Null = refl
good_right Null (Kept Whole) = refl
good_right Null (Own Whole) = refl
good_right Null (Alias Whole) = refl
good_right Null Lost = refl
good_right (Kept Whole) Null = refl
good_right (Kept Whole) (Kept Whole) = refl
good_right (Kept Whole) (Own Whole) = refl
good_right (Kept Whole) (Alias Whole) = refl
good_right (Kept Whole) Lost = refl
good_right (Own Whole) Null = refl
good_right (Own Whole) (Kept Whole) = refl
good_right (Own Whole) (Own Whole) = refl
good_right (Own Whole) (Alias Whole) = refl
good_right (Own Whole) Lost = refl
good_right (Alias Whole) Null = refl
good_right (Alias Whole) (Kept Whole) = refl
good_right (Alias Whole) (Own Whole) = refl
good_right (Alias Whole) (Alias Whole) = refl
good_right (Alias Whole) Lost = refl
good_right Lost b = good_lost b

-- What is known of each variable at least as well.
abbrev pub AsGood : Holds → Holds → Type 0
AsGood holds other = (x : ℕ) → is_as_good (hold_at holds x) (hold_at other x) ≡ true

pub as_good : (holds : Holds) → AsGood holds holds
as_good holds x = good_here (hold_at holds x)

pub as_good_then : (a b c : Holds) → AsGood a b → AsGood b c → AsGood a c
as_good_then a b c p q x = good_then (hold_at a x) (hold_at b x) (hold_at c x) (p x) (q x)

both : (a b : Bool) → (a && b) ≡ true → (a ≡ true) × (b ≡ true)
both true b e = (refl, e)
both false b e = absurd (cc e)

-- The comparison of flow says so of each variable.
pub good_each : (holds other : Holds) → are_as_good holds other ≡ true → AsGood holds other
good_each holds [] e x = good_lost (hold_at holds x)
good_each [] (h ∷ hs) e zero = (both (is_as_good Lost h) (are_as_good [] hs) e).0
good_each [] (h ∷ hs) e (suc x) = good_each [] hs (both (is_as_good Lost h) (are_as_good [] hs) e).1 x
good_each (g ∷ gs) (h ∷ hs) e zero = (both (is_as_good g h) (are_as_good gs hs) e).0
good_each (g ∷ gs) (h ∷ hs) e (suc x) = good_each gs hs (both (is_as_good g h) (are_as_good gs hs) e).1 x

pub join_left : (a b : Holds) → AsGood a (join a b)
join_left [] hs x = refl
join_left (g ∷ gs) [] x = good_lost (hold_at (g ∷ gs) x)
join_left (g ∷ gs) (h ∷ hs) zero = good_left g h
join_left (g ∷ gs) (h ∷ hs) (suc x) = join_left gs hs x

pub join_right : (a b : Holds) → AsGood b (join a b)
join_right [] hs x = good_lost (hold_at hs x)
join_right (g ∷ gs) [] x = refl
join_right (g ∷ gs) (h ∷ hs) zero = good_right g h
join_right (g ∷ gs) (h ∷ hs) (suc x) = join_right gs hs x

-- What a loop's start holds is no better than what was held before the loop.
good_opened : (borrows : Bool) (h : Hold) → is_as_good h (opened_hold borrows h) ≡ true
good_opened true Null = refl
good_opened false Null = refl
good_opened borrows (Kept Whole) = refl
good_opened borrows (Own Whole) = refl
good_opened borrows (Alias Whole) = refl
good_opened borrows Lost = refl

opened_at : (borrows : Bool) (x : ℕ) (holds : Holds) → is_as_good (hold_at holds x) (hold_at (slice_set holds x (opened_hold borrows (hold_at holds x))) x) ≡ true
opened_at borrows x [] = refl
opened_at borrows zero (h ∷ hs) = good_opened borrows h
opened_at borrows (suc x) (h ∷ hs) = opened_at borrows x hs

opened_good : (variables : List VariableForm) (x : ℕ) (holds : Holds) → AsGood holds (opened variables x holds)
opened_good variables x holds y = go (same_or_not y x)
  where
    go : (y ≡ x) ⊎ (y ≢ x) → is_as_good (hold_at holds y) (hold_at (opened variables x holds) y) ≡ true
    go (inl e) = rw e (opened_at (is_borrower variables x) x holds)
    go (inr ne) = rw (read_other holds x y (opened_hold (is_borrower variables x) (hold_at holds x)) Lost ne) (good_here (hold_at holds y))

target_good : (variables : List VariableForm) (cs : List ℕ) (x : ℕ) (holds : Holds) → AsGood holds (opened_target variables cs x holds)
target_good variables [] x holds = opened_good variables x holds
target_good variables (c ∷ cs) x holds = as_good holds

-- What is touched is known as well, or less.
good_touched : (h : Hold) → is_as_good h (touched_hold h) ≡ true
good_touched Null = refl
good_touched (Kept Whole) = refl
good_touched (Own Whole) = refl
good_touched (Alias Whole) = refl
good_touched Lost = refl

touched_at : (x : ℕ) (holds : Holds) → is_as_good (hold_at holds x) (hold_at (slice_set holds x (touched_hold (hold_at holds x))) x) ≡ true
touched_at x [] = refl
touched_at zero (h ∷ hs) = good_touched h
touched_at (suc x) (h ∷ hs) = touched_at x hs

touched_good : (x : ℕ) (holds : Holds) → AsGood holds (touched x holds)
touched_good x holds y = go (same_or_not y x)
  where
    go : (y ≡ x) ⊎ (y ≢ x) → is_as_good (hold_at holds y) (hold_at (touched x holds) y) ≡ true
    go (inl e) = rw e (touched_at x holds)
    go (inr ne) = rw (read_other holds x y (touched_hold (hold_at holds x)) Lost ne) (good_here (hold_at holds y))

all_touched_good : (xs : List ℕ) (holds : Holds) → AsGood holds (all_touched xs holds)
all_touched_good [] holds = as_good holds
all_touched_good (x ∷ xs) holds = as_good_then holds (touched x holds) (all_touched xs (touched x holds)) (touched_good x holds) (all_touched_good xs (touched x holds))

parts_good : (variables : List VariableForm) (ds : List DeclarationForm) (holds : Holds) → AsGood holds (touched_by_all variables no_tracks ds holds)
parts_good variables [] holds = as_good holds
parts_good variables (creates_pool pool ∷ ds) holds = parts_good variables ds holds
parts_good variables (collects access ∷ ds) holds = parts_good variables ds holds
parts_good variables (declares x right ∷ ds) holds =
    let here = all_touched (moved_by_right no_tracks (is_borrower variables x) right) holds in
    as_good_then holds here (touched_by_all variables no_tracks ds here) (all_touched_good (moved_by_right no_tracks (is_borrower variables x) right) holds) (parts_good variables ds here)
parts_good variables (declares_record x object initial ∷ ds) holds = parts_good variables ds holds

actuals_good : (variables : List VariableForm) (actuals : List ActualForm) (holds : Holds) → AsGood holds (opened_by_actuals variables no_tracks actuals holds)
actuals_good variables [] holds = as_good holds
actuals_good variables (in_value e ∷ rest) holds = actuals_good variables rest holds
actuals_good variables (in_null ∷ rest) holds = actuals_good variables rest holds
actuals_good variables (in_access path ∷ rest) holds = actuals_good variables rest holds
actuals_good variables (in_record p ∷ rest) holds = actuals_good variables rest holds
actuals_good variables (in_out_component path ∷ rest) holds = actuals_good variables rest holds
actuals_good variables (in_out_record p ∷ rest) holds = actuals_good variables rest holds
actuals_good variables (in_out_path path ∷ rest) holds = actuals_good variables rest holds
actuals_good variables (in_out_access path ∷ rest) holds =
    let here = opened variables path.root holds in
    as_good_then holds here (opened_by_actuals variables no_tracks rest here) (opened_good variables path.root holds) (actuals_good variables rest here)

mutual
  by_good : (variables : List VariableForm) (f : StmtForm) (holds : Holds) → AsGood holds (opened_by variables no_tracks f holds)
  by_good variables skips holds = as_good holds
  by_good variables (assigns target right) holds =
      let moved = moved_by_right no_tracks (names_borrower variables target) right in
      let here = all_touched moved holds in
      as_good_then holds here (opened_target variables target.selectors target.root here) (all_touched_good moved holds) (target_good variables target.selectors target.root here)
  by_good variables (assigns_record target items) holds = as_good holds
  by_good variables (frees access path) holds = all_touched_good (variable_of path.selectors path.root) holds
  by_good variables (gets target) holds = as_good holds
  by_good variables (writes e) holds = as_good holds
  by_good variables (writes_text text) holds = as_good holds
  by_good variables (chooses branches) holds = branches_good variables branches holds
  by_good variables (repeats condition fs end_spot) holds = all_good variables fs holds
  by_good variables (counts x low high fs end_spot) holds = all_good variables fs holds
  by_good variables (exits condition spot) holds = as_good holds
  by_good variables (calls procedure actuals) holds = actuals_good variables actuals holds
  by_good variables (returns spot) holds = as_good holds
  by_good variables (raises e) holds = as_good holds
  by_good variables (encloses ds fs hs) holds =
      let inside = touched_by_all variables no_tracks ds holds in
      let behind = opened_by_all variables no_tracks fs inside in
      as_good_then holds inside (opened_by_handlers variables no_tracks hs behind) (parts_good variables ds holds)
      (as_good_then inside behind (opened_by_handlers variables no_tracks hs behind) (all_good variables fs inside) (handlers_good variables hs behind))

  pub all_good : (variables : List VariableForm) (fs : StmtsForm) (holds : Holds) → AsGood holds (opened_by_all variables no_tracks fs holds)
  all_good variables no_stmts holds = as_good holds
  all_good variables (a_stmt f fs) holds = as_good_then holds (opened_by variables no_tracks f holds) (opened_by_all variables no_tracks fs (opened_by variables no_tracks f holds)) (by_good variables f holds) (all_good variables fs (opened_by variables no_tracks f holds))

  branches_good : (variables : List VariableForm) (branches : BranchesForm) (holds : Holds) → AsGood holds (opened_by_branches variables no_tracks branches holds)
  branches_good variables (otherwise fs) holds = all_good variables fs holds
  branches_good variables (a_branch e fs branches) holds = as_good_then holds (opened_by_all variables no_tracks fs holds) (opened_by_branches variables no_tracks branches (opened_by_all variables no_tracks fs holds)) (all_good variables fs holds) (branches_good variables branches (opened_by_all variables no_tracks fs holds))

  handlers_good : (variables : List VariableForm) (hs : HandlersForm) (holds : Holds) → AsGood holds (opened_by_handlers variables no_tracks hs holds)
  handlers_good variables no_handlers holds = as_good holds
  handlers_good variables (a_handler choices fs hs) holds = as_good_then holds (opened_by_all variables no_tracks fs holds) (opened_by_handlers variables no_tracks hs (opened_by_all variables no_tracks fs holds)) (all_good variables fs holds) (handlers_good variables hs (opened_by_all variables no_tracks fs holds))

-- What is lost is no better than anything.
pub good_losing : (x : ℕ) (holds other : Holds) → hold_at other x ≡ Lost → AsGood holds other → AsGood (slice_set holds x Lost) other
good_losing x holds other is good y = go (same_or_not y x)
  where
    go : (y ≡ x) ⊎ (y ≢ x) → is_as_good (hold_at (slice_set holds x Lost) y) (hold_at other y) ≡ true
    go (inl e) = rw (e, is) (good_lost (hold_at (slice_set holds x Lost) x))
    go (inr ne) = rw (read_other holds x y Lost Lost ne) (good y)

pub good_to_lost : (x : ℕ) (holds other : Holds) → AsGood holds other → AsGood holds (slice_set other x Lost)
good_to_lost x holds other good y = go (same_or_not y x)
  where
    go : (y ≡ x) ⊎ (y ≢ x) → is_as_good (hold_at holds y) (hold_at (slice_set other x Lost) y) ≡ true
    go (inl e) = rw (e, lost_here other x) (good_lost (hold_at holds x))
    go (inr ne) = rw (read_other other x y Lost Lost ne) (good y)

-- What is known where objects may be gone, as behind a call, is no better than before.
alias_good : (b : Bool) (h : Hold) → is_as_good h (without_alias b h) ≡ true
alias_good false h = good_here h
alias_good true Null = refl
alias_good true (Kept r) = good_here (Kept r)
alias_good true (Own r) = good_here (Own r)
alias_good true (Alias r) = good_lost (Alias r)
alias_good true Lost = refl

pub without_freed_good : (variables : List VariableForm) (may : ℕ → Bool) (holds : Holds) → AsGood holds (without_freed variables may holds)
without_freed_good [] may holds x = good_lost (hold_at holds x)
without_freed_good (v ∷ vs) may [] x = refl
without_freed_good (v ∷ vs) may (h ∷ hs) zero = alias_good (is_freed may (access_of (Some v.kind))) h
without_freed_good (v ∷ vs) may (h ∷ hs) (suc x) = without_freed_good vs may hs x

pub called_good : (variables : List VariableForm) (effect : Option Effect) (holds : Holds) → AsGood holds (left_by_call variables effect holds)
called_good variables None holds = as_good holds
called_good variables (Some effect) holds = without_freed_good variables effect.frees holds
