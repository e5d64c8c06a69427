-- What the rules let through: which variables are moved, and how a component is.

use Rattle.std.proofs.Common.{◌≡◌, ◌≢◌, ℕ, zero, suc, Bool, true, false, ◌&&◌, ◌||◌, not, List, [], ◌∷◌, ◌++◌, length, refl, sym, ap, subst, ◌∙◌, ◌⊎◌, inl, inr}
use Rattle.std.specs.Prelude.{Option, Some, None, ◌==◌}
use Rattle.std.specs.List.{slice_get, slice_set}
use Rattle.std.proofs.lemmas.Bool.{and_parts, eqb-true, eq-eqb}
use Rattle.ada_text.specs.declared.spot.Spot.{Spot}
use Rattle.ada_program.specs.Form.{PathForm, RightForm, nothing, value_of, assigns, StmtsForm, a_stmt}
use Rattle.ada_program.specs.ProgramForm.{TypeForm, VariableForm}
use Rattle.ada_effects.specs.Effects.{path_raises}
use Rattle.ada_program.specs.WellFormed.{access_of, is_borrower, names_borrower}
use Rattle.ada_flow.specs.declared.rule.Hold.{Hold}
use Rattle.ada_flow.specs.declared.rule.Hold.TheVariants as hold
use Rattle.ada_flow.specs.declared.rule.Region.{Region}
use Rattle.ada_program.specs.Nested.{is_one_of}
use Rattle.ada_flow.specs.Flow.{Holds, hold_at, Outcome, faults, goes, then_flow, raising_if, ends_with, Use, moves_it, variable_of, uses_in_right, uses_in_target, Breach, moved_by, moved_behind, broken_among, unless_broken, using_paths, left_by_move, without_value, without_values, moved_by_right, right_hold, evaluation_raises, without_alias, is_freed, without_freed, without_freed_option, loses, gives_seen, same_selectors, same_path, leaves_path, clears, begins_pair}
use Rattle.ada_flow.specs.Tracking.{no_tracks}
use Rattle.ada_sound.specs.Agreement.{IsOwner}
use Rattle.ada_sound.specs.Owners.{OwnsNothing, IsElsewhere, Stays, OnlyOwnersAreMoved, MovedOwnsNothing, OnlyPairsTake, PairsAreTakePairs}
use Rattle.ada_sound.proofs.Filled.{first_one}
use Rattle.ada_sound.proofs.Values.{read_same, read_other, same_or_not}
use Rattle.ada_sound.proofs.Invariant.{NoneBroken}
use Rattle.ada_sound.proofs.Followings.{first_kept, kept_apart}
use Rattle.ada_sound.proofs.Taken.{cleared_is, selectors_are}
use Rattle.ada_owners.specs.Reliance.{Owns}
use Rattle.ada_owners.proofs.Kernel.{lost_owns}

-- A variable has another hold.
pub set_nothing : (holds : Holds) (x : ℕ) (h : Hold) → (Owns h → ⊥) → OwnsNothing (slice_set holds x h) x
set_nothing holds x h none own = elim (read_same holds x h hold.Lost) [ inl is ↦ none (rw is at own) | inr is ↦ lost_owns (hold_at (slice_set holds x h) x) is own ]

pub set_elsewhere : (holds : Holds) (y x : ℕ) (h : Hold) → x ≢ y → OwnsNothing holds x → OwnsNothing (slice_set holds y h) x
set_elsewhere holds y x h ne none own = none (rw (read_other holds y x h hold.Lost ne) at own)

-- Whether what is assigned to is a borrower.
abbrev pub borrows_at : List VariableForm → List ℕ → (x : ℕ) → Bool
borrows_at variables [] x = is_borrower variables x
borrows_at variables (c ∷ cs) x = false

none_is : (n : ℕ) → (suc n == 0) ≡ false
none_is n = go (suc n == 0) refl
  where
    go : (b : Bool) → (suc n == 0) ≡ b → b ≡ false
    go true e = absurd (cc (eqb-true (suc n) 0 e))
    go false e = refl

pub borrows_is : (variables : List VariableForm) (target : PathForm) → names_borrower variables target ≡ borrows_at variables target.selectors target.root
borrows_is variables target = go target.selectors
  where
    go : (cs : List ℕ) → ((length cs == 0) && is_borrower variables target.root) ≡ borrows_at variables cs target.root
    go [] = refl
    go (c ∷ cs) = rw (none_is (length cs)) refl

-- What an assignment comes to its end with, and raises with.
abbrev pub assigned : (borrows : Bool) → List ℕ → (x : ℕ) → RightForm → Holds → Holds
assigned borrows [] x right holds = slice_set (without_values (moved_by_right no_tracks borrows right) holds) x (right_hold no_tracks borrows right holds)
assigned borrows (c ∷ cs) x right holds = without_values (moved_by_right no_tracks borrows right) holds

-- The component that an assignment goes to, if it goes to one.
abbrev pub target_at : List ℕ → PathForm → Option PathForm
target_at [] target = None
target_at (c ∷ cs) target = Some target

-- None of its paths breaks a rule.
pub record Assigns (types : List TypeForm) (borrows cleared : Bool) (cs : List ℕ) (target : PathForm) (right : RightForm) (holds : Holds) (normal raising : Option Holds) : Type 0 where
  pub kept : NoneBroken holds (uses_in_right types target.spot borrows cleared (target_at cs target) right)
  pub ends : normal ≡ Some (assigned borrows cs target.root right holds)
  pub raises : (raised : Holds) → raising ≡ Some raised → raised ≡ holds

pub kept_uses : (uses : List Use) (holds : Holds) (after : Outcome) (normal raising : Option Holds) → using_paths no_tracks uses holds after ≡ goes normal raising → NoneBroken holds uses × (after ≡ goes normal raising)
kept_uses uses holds after normal raising e = go (broken_among no_tracks holds uses) refl e
  where
    go : (b : Option Breach) → broken_among no_tracks holds uses ≡ b → unless_broken b after ≡ goes normal raising → NoneBroken holds uses × (after ≡ goes normal raising)
    go None is e' = (is, e')
    go (Some breach) is e' = absurd (cc e')

raised_is : (b : Bool) (holds raised : Holds) → raising_if b holds ≡ Some raised → raised ≡ holds
raised_is true holds raised e = cc e
raised_is false holds raised e = absurd (cc e)

pub ended : (b : Bool) (holds after : Holds) (normal raising : Option Holds) → ends_with b holds after ≡ goes normal raising → (normal ≡ Some after) × ((raised : Holds) → raising ≡ Some raised → raised ≡ holds)
ended b holds after normal raising e = (cc e, λ raised is. let same : raising_if b holds ≡ raising = cc e in raised_is b holds raised (same ∙ is))

pub assigns_as : (types : List TypeForm) (variables : List VariableForm) (cleared : Bool) (cs : List ℕ) (target : PathForm) (right : RightForm) (holds : Holds) (normal raising : Option Holds) → gives_seen types variables no_tracks false cleared cs target right holds ≡ goes normal raising → Assigns types (borrows_at variables cs target.root) cleared cs target right holds normal raising
assigns_as types variables cleared [] target right holds normal raising e =
    let borrows = is_borrower variables target.root in
    let after = assigned borrows [] target.root right holds in
    let uses = kept_uses (uses_in_right types target.spot borrows cleared None right) holds (ends_with (evaluation_raises right) holds after) normal raising e in
    let ends = ended (evaluation_raises right) holds after normal raising uses.1 in
    record { kept = uses.0; ends = ends.0; raises = ends.1 }
assigns_as types variables cleared (c ∷ cs) target right holds normal raising e =
    let after = assigned false (c ∷ cs) target.root right holds in
    let may = path_raises target || evaluation_raises right in
    let of_right = uses_in_right types target.spot false cleared (Some target) right in
    let uses = kept_uses (uses_in_target target ++ of_right) holds (ends_with may holds after) normal raising e in
    let ends = ended may holds after normal raising uses.1 in
    record { kept = (kept_apart holds (uses_in_target target) of_right uses.0).1; ends = ends.0; raises = ends.1 }

pub assigns_by : (types : List TypeForm) (variables : List VariableForm) (borrows cleared : Bool) (target : PathForm) (right : RightForm) (holds : Holds) (normal raising : Option Holds) → names_borrower variables target ≡ borrows → gives_seen types variables no_tracks false cleared target.selectors target right holds ≡ goes normal raising → Assigns types borrows cleared target.selectors target right holds normal raising
assigns_by types variables borrows cleared target right holds normal raising is e =
    let same : borrows_at variables target.selectors target.root ≡ borrows = sym (borrows_is variables target) ∙ is in
    subst (λ b. Assigns types b cleared target.selectors target right holds normal raising) same (assigns_as types variables cleared target.selectors target right holds normal raising e)

-- What comes of a form in the midst of which operations may free objects: it breaks no rule, and aliases are lost behind it and where it raises an exception.
way_lost : (variables : List VariableForm) (may : ℕ → Bool) (o : Option Holds) (less : Holds) → without_freed_option variables may o ≡ Some less → (before : Holds) × (o ≡ Some before) × (less ≡ without_freed variables may before)
way_lost variables may None less e = absurd (cc e)
way_lost variables may (Some before) less e = (before, refl, cc e)

pub loses_through : (variables : List VariableForm) (may : ℕ → Bool) (o : Outcome) (normal raising : Option Holds) → loses variables may o ≡ goes normal raising → (here raised : Option Holds) × (o ≡ goes here raised)
loses_through variables may (faults spot rule) normal raising e = absurd (cc e)
loses_through variables may (goes here raised) normal raising e = (here, raised, refl)

pub loses_ended : (variables : List VariableForm) (may : ℕ → Bool) (o : Outcome) (after : Holds) (raising : Option Holds) → loses variables may o ≡ goes (Some after) raising → (before : Holds) × (raised : Option Holds) × (o ≡ goes (Some before) raised) × (after ≡ without_freed variables may before)
loses_ended variables may (faults spot rule) after raising e = absurd (cc e)
loses_ended variables may (goes here raised) after raising e =
    let same : without_freed_option variables may here ≡ Some after = cc e in
    let way = way_lost variables may here after same in
    (way.0, raised, ap (λ (w : Option Holds). goes w raised) way.1, way.2)

pub loses_raised : (variables : List VariableForm) (may : ℕ → Bool) (o : Outcome) (less : Holds) (normal : Option Holds) → loses variables may o ≡ goes normal (Some less) → (before : Holds) × (here : Option Holds) × (o ≡ goes here (Some before)) × (less ≡ without_freed variables may before)
loses_raised variables may (faults spot rule) less normal e = absurd (cc e)
loses_raised variables may (goes here raised) less normal e =
    let same : without_freed_option variables may raised ≡ Some less = cc e in
    let way = way_lost variables may raised less same in
    (way.0, here, ap (λ (w : Option Holds). goes here w) way.1, way.2)

-- Each variable stays then, but for such an alias.
alias_stays : (b : Bool) (h : Hold) → (((r : Region) × (h ≡ hold.Alias r) × (b ≡ true)) → without_alias b h ≡ hold.Lost) × ((((r : Region) × (h ≡ hold.Alias r) × (b ≡ true)) → ⊥) → without_alias b h ≡ h)
alias_stays false h = (λ is. absurd (cc (is.2)), λ none. refl)
alias_stays true hold.Null = (λ is. absurd (cc (is.1)), λ none. refl)
alias_stays true (hold.Kept r) = (λ is. absurd (cc (is.1)), λ none. refl)
alias_stays true (hold.Own r) = (λ is. absurd (cc (is.1)), λ none. refl)
alias_stays true (hold.Alias r) = (λ is. refl, λ none. absurd (none (r, refl, refl)))
alias_stays true hold.Lost = (λ is. refl, λ none. refl)

pub stays_lost : (variables : List VariableForm) (may : ℕ → Bool) (holds : Holds) (x : ℕ) (v : VariableForm) → slice_get variables x ≡ Some v → Stays variables may holds (without_freed variables may holds) x
stays_lost [] may holds x v is = absurd (cc is)
stays_lost (w ∷ ws) may [] x v is = (λ alias. refl, λ none. refl)
stays_lost (w ∷ ws) may (h ∷ hs) zero v is = alias_stays (is_freed may (access_of (Some w.kind))) h
stays_lost (w ∷ ws) may (h ∷ hs) (suc x) v is = stays_lost ws may hs x v is

-- Only an owner, or null, is moved.
pub moved_owner : (h : Hold) (spot : Spot) → moved_by h spot ≡ None → IsOwner h
moved_owner hold.Null spot e = tt
moved_owner (hold.Kept r) spot e = tt
moved_owner (hold.Own r) spot e = tt
moved_owner (hold.Alias r) spot e = absurd (cc e)
moved_owner hold.Lost spot e = absurd (cc e)

behind_owner : (cleared : Bool) (cs : List ℕ) (h : Hold) (spot : Spot) → cs ≡ [] → moved_behind cleared cs h spot ≡ None → IsOwner h
behind_owner cleared [] h spot is e = moved_owner h spot e
behind_owner cleared (c ∷ cs) h spot is e = absurd (cc is)

behind_cleared : (cleared : Bool) (cs : List ℕ) (h : Hold) (spot : Spot) → cs ≢ [] → moved_behind cleared cs h spot ≡ None → cleared ≡ true
behind_cleared cleared [] h spot some e = absurd (some refl)
behind_cleared cleared (c ∷ cs) h spot some e = (cleared_is cleared h spot e).0

pub only_owners_moved : OnlyOwnersAreMoved
only_owners_moved types variables target path holds owns is kept =
    let all = assigns_by types variables false kept.1 target (value_of path) holds kept.2 kept.3 owns kept.4 in
    behind_owner kept.1 path.selectors (hold_at holds path.root) path.spot is (first_kept holds (moves_it kept.1 path) [] all.kept).0

-- What was moved owns nothing.
pub left_nothing : (h : Hold) → Owns (left_by_move h) → ⊥
left_nothing hold.Null own = own
left_nothing (hold.Kept q) own = own
left_nothing (hold.Own q) own = own
left_nothing (hold.Alias q) own = own
left_nothing hold.Lost own = own

without_nothing : (holds : Holds) (y x : ℕ) → OwnsNothing holds x → OwnsNothing (without_value y holds) x
without_nothing holds y x none = go (same_or_not x y)
  where
    go : (x ≡ y) ⊎ (x ≢ y) → OwnsNothing (without_value y holds) x
    go (inl e) = rw e (set_nothing holds y (left_by_move (hold_at holds y)) (left_nothing (hold_at holds y)))
    go (inr ne) = set_elsewhere holds y x (left_by_move (hold_at holds y)) ne none

still_nothing : (ys : List ℕ) (holds : Holds) (x : ℕ) → OwnsNothing holds x → OwnsNothing (without_values ys holds) x
still_nothing [] holds x none = none
still_nothing (y ∷ ys) holds x none = still_nothing ys (without_value y holds) x (without_nothing holds y x none)

moved_nothing : (ys : List ℕ) (holds : Holds) (x : ℕ) → is_one_of ys x ≡ true → OwnsNothing (without_values ys holds) x
moved_nothing [] holds x is = absurd (cc is)
moved_nothing (y ∷ ys) holds x is = go (y == x) refl is (λ one. moved_nothing ys (without_value y holds) x one)
  where
    go : (b : Bool) → (y == x) ≡ b → (b || is_one_of ys x) ≡ true → (is_one_of ys x ≡ true → OwnsNothing (without_values ys (without_value y holds)) x) → OwnsNothing (without_values (y ∷ ys) holds) x
    go true e one later =
        let same = eqb-true y x e in
        still_nothing ys (without_value y holds) x (rw (← same) (set_nothing holds y (left_by_move (hold_at holds y)) (left_nothing (hold_at holds y))))
    go false e one later = later one

assigned_nothing : (borrows : Bool) (target : PathForm) (cs : List ℕ) (right : RightForm) (holds : Holds) (x : ℕ) → target.selectors ≡ cs → IsElsewhere target x → is_one_of (moved_by_right no_tracks borrows right) x ≡ true → OwnsNothing (assigned borrows cs target.root right holds) x
assigned_nothing borrows target [] right holds x is other moved =
    set_elsewhere (without_values (moved_by_right no_tracks borrows right) holds) target.root x (right_hold no_tracks borrows right holds) (other is) (moved_nothing (moved_by_right no_tracks borrows right) holds x moved)
assigned_nothing borrows target (c ∷ cs) right holds x is other moved = moved_nothing (moved_by_right no_tracks borrows right) holds x moved

pub ends_nothing : (types : List TypeForm) (variables : List VariableForm) (borrows cleared : Bool) (target : PathForm) (right : RightForm) (holds after : Holds) (raising : Option Holds) (x : ℕ) → names_borrower variables target ≡ borrows → IsElsewhere target x → is_one_of (moved_by_right no_tracks borrows right) x ≡ true → gives_seen types variables no_tracks false cleared target.selectors target right holds ≡ goes (Some after) raising → OwnsNothing after x
ends_nothing types variables borrows cleared target right holds after raising x is other moved e =
    let all = assigns_by types variables borrows cleared target right holds (Some after) raising is e in
    let same : assigned borrows target.selectors target.root right holds ≡ after = cc (all.ends) in
    rw (← same) (assigned_nothing borrows target target.selectors right holds x refl other moved)

variable_one : (cs : List ℕ) (x : ℕ) → cs ≡ [] → is_one_of (variable_of cs x) x ≡ true
variable_one [] x is = first_one x []
variable_one (c ∷ cs) x is = absurd (cc is)

pub moved_owns_nothing : MovedOwnsNothing
moved_owns_nothing types variables target path holds after owns is other ends =
    ends_nothing types variables false ends.1 target (value_of path) holds after ends.2 path.root owns other (variable_one path.selectors path.root is) ends.3

-- A component is moved by the first statement of a take pair.
first_goes : (o : Outcome) (more : Holds → Outcome) (normal raising : Option Holds) → then_flow o more ≡ goes normal raising → (here raised : Option Holds) × (o ≡ goes here raised)
first_goes (faults spot rule) more normal raising e = absurd (cc e)
first_goes (goes here raised) more normal raising e = (here, raised, refl)

pub only_pairs_take : OnlyPairsTake
only_pairs_take types variables target path behind holds owns some kept =
    let pair = begins_pair (assigns target (value_of path)) behind in
    let first = first_goes (gives_seen types variables no_tracks false pair target.selectors target (value_of path) holds) _ kept.1 kept.2 kept.3 in
    let all = assigns_by types variables false pair target (value_of path) holds first.0 first.1 owns first.2 in
    behind_cleared pair path.selectors (hold_at holds path.root) path.spot some (first_kept holds (moves_it pair path) [] all.kept).0

-- What a take pair is.
cleared_next : (path : PathForm) (fs : StmtsForm) → clears path fs ≡ true → (cleared : PathForm) × (later : StmtsForm) × (fs ≡ a_stmt (assigns cleared nothing) later) × (same_path cleared path ≡ true)
cleared_next path (a_stmt (assigns cleared nothing) later) e = (cleared, later, refl, e)
cleared_next path fs e = absurd (cc e)

other_root : (x y : ℕ) → not (x == y) ≡ true → x ≢ y
other_root x y e same = let is : (x == y) ≡ true = eq-eqb x y same in let none : not true ≡ true = rw is at e in cc none

leaves_by : (target path : PathForm) (ds cs : List ℕ) → target.selectors ≡ ds → path.selectors ≡ cs → leaves_path ds cs (not (target.root == path.root)) ≡ true → ((target.selectors ≡ []) × (target.root ≢ path.root)) ⊎ ((target.selectors ≢ []) × (c : ℕ) × (path.selectors ≡ c ∷ []))
leaves_by target path [] cs is has e = inl (is, other_root target.root path.root e)
leaves_by target path (d ∷ ds) [] is has e = absurd (cc e)
leaves_by target path (d ∷ ds) (c ∷ []) is has e = inr (λ none. cc (is, none), c, has)
leaves_by target path (d ∷ ds) (c ∷ b ∷ cs) is has e = absurd (cc e)

pub pairs_are_take_pairs : PairsAreTakePairs
pairs_are_take_pairs target path behind e =
    let parts = and_parts (leaves_path target.selectors path.selectors (not (target.root == path.root))) (clears path behind) e in
    let next = cleared_next path behind parts.1 in
    let same = and_parts (next.0.root == path.root) (same_selectors next.0.selectors path.selectors) next.3 in
    record {
      cleared = next.0;
      later = next.1;
      is_next = next.2;
      root = eqb-true next.0.root path.root same.0;
      selectors = selectors_are next.0.selectors path.selectors same.1;
      leaves_way = leaves_by target path target.selectors path.selectors refl refl parts.0;
    }
