-- What the rules let through: a borrower owns nothing of what it gets, and nothing is moved to it.

use Rattle.std.proofs.Common.{◌≡◌, ℕ, Bool, true, false, List, [], ◌∷◌, refl, sym, ◌∙◌}
use Rattle.std.specs.Prelude.{Option, Some}
use Rattle.std.specs.List.{slice_set}
use Rattle.ada_effects.specs.Effects.{Implicit}
use Rattle.ada_program.specs.Form.{PathForm, RightForm, nothing, value_of, allocates, allocates_default, computes, assigns, declares}
use Rattle.ada_program.specs.ProgramForm.{TypeForm, VariableForm}
use Rattle.ada_text.specs.declared.spot.Spot.{Spot}
use Rattle.ada_program.specs.WellFormed.{is_borrower, names_borrower, lends_to}
use Rattle.ada_flow.specs.declared.rule.Hold.{Hold}
use Rattle.ada_flow.specs.declared.rule.Hold.TheVariants as hold
use Rattle.ada_flow.specs.declared.rule.Rule.TheVariants.{LostValue}
use Rattle.ada_flow.specs.Flow.{Holds, hold_at, faults, goes, declared_at, moved_by_right, borrowed_hold, right_hold, gives, gives_seen, Outcome, using_paths, uses_in_start, initializes, declaration_flow, Around, stmt_flow}
use Rattle.ada_flow.specs.Tracking.{no_tracks}
use Rattle.ada_sound.specs.Owners.{DeclaredBorrowersMoveNothing, DeclaredBorrowersOwnNothing, BorrowersMoveNothing, BorrowersOwnNothing, LostIsNotBorrowed}
use Rattle.ada_sound.proofs.Values.{read_other}
use Rattle.ada_sound.proofs.Moves.{set_nothing, borrows_at, borrows_is, assigned, assigns_as}
use Rattle.ada_owners.specs.Reliance.{Owns}
use Rattle.ada_sound.specs.Untracked.{untracked}

-- What suits a borrower moves nothing, and gives it nothing to own.
moves_none : (variables : List VariableForm) (right : RightForm) → lends_to variables true right ≡ true → moved_by_right no_tracks true right ≡ []
moves_none variables nothing suits = refl
moves_none variables (value_of path) suits = refl
moves_none variables (allocates access items) suits = absurd (cc suits)
moves_none variables (allocates_default access) suits = refl
moves_none variables (computes e) suits = refl

borrowed_no_owner : (h : Hold) → Owns (borrowed_hold h) → ⊥
borrowed_no_owner hold.Null own = own
borrowed_no_owner (hold.Kept q) own = own
borrowed_no_owner (hold.Own q) own = own
borrowed_no_owner (hold.Alias q) own = own
borrowed_no_owner hold.Lost own = own

lends_no_owner : (variables : List VariableForm) (right : RightForm) (holds : Holds) → lends_to variables true right ≡ true → Owns (right_hold no_tracks true right holds) → ⊥
lends_no_owner variables nothing holds suits own = own
lends_no_owner variables (value_of path) holds suits own = borrowed_no_owner (hold_at holds path.root) own
lends_no_owner variables (allocates access items) holds suits own = absurd (cc suits)
lends_no_owner variables (allocates_default access) holds suits own = absurd (cc suits)
lends_no_owner variables (computes f) holds suits own = own

-- A variable that is a borrower and gets what suits it changes what it holds, and nothing else changes.
lent_variable : (types : List TypeForm) (variables : List VariableForm) (here : Spot) (cleared : Bool) (b : ℕ) (right : RightForm) (holds after : Holds) (raising : Option Holds) → is_borrower variables b ≡ true → lends_to variables true right ≡ true → gives types variables no_tracks here cleared b right holds ≡ goes (Some after) raising → slice_set holds b (right_hold no_tracks true right holds) ≡ after
lent_variable types variables here cleared b right holds after raising is suits e =
    let target : PathForm = record { root = b; of_record = false; selectors = []; spot = here } in
    let all = assigns_as types variables cleared [] target right holds (Some after) raising e in
    let same : assigned (is_borrower variables b) [] b right holds ≡ after = cc (all.ends) in
    rw (is, moves_none variables right suits) at same

lent_path : (types : List TypeForm) (variables : List VariableForm) (cleared : Bool) (cs : List ℕ) (target : PathForm) (right : RightForm) (holds after : Holds) (raising : Option Holds) → borrows_at variables cs target.root ≡ true → lends_to variables true right ≡ true → gives_seen types variables no_tracks false cleared cs target right holds ≡ goes (Some after) raising → slice_set holds target.root (right_hold no_tracks true right holds) ≡ after
lent_path types variables cleared [] target right holds after raising is suits e = lent_variable types variables target.spot cleared target.root right holds after raising is suits e
lent_path types variables cleared (c ∷ cs) target right holds after raising is suits e = absurd (cc is)

lent : (types : List TypeForm) (variables : List VariableForm) (cleared : Bool) (target : PathForm) (right : RightForm) (holds after : Holds) (raising : Option Holds) → names_borrower variables target ≡ true → lends_to variables true right ≡ true → gives_seen types variables no_tracks false cleared target.selectors target right holds ≡ goes (Some after) raising → slice_set holds target.root (right_hold no_tracks true right holds) ≡ after
lent types variables cleared target right holds after raising is suits e =
    lent_path types variables cleared target.selectors target right holds after raising (sym (borrows_is variables target) ∙ is) suits e

-- What suits a borrower is no new object, so nothing is initialized.
starts_none : (variables : List VariableForm) (implicit : Implicit) (right : RightForm) (o : Outcome) → lends_to variables true right ≡ true → initializes variables implicit right o ≡ o
starts_none variables implicit nothing o suits = refl
starts_none variables implicit (value_of path) o suits = refl
starts_none variables implicit (allocates access items) o suits = absurd (cc suits)
starts_none variables implicit (allocates_default access) o suits = absurd (cc suits)
starts_none variables implicit (computes e) o suits = refl

uses_none : (types : List TypeForm) (variables : List VariableForm) (implicit : Implicit) (target : PathForm) (right : RightForm) (holds : Holds) (o : Outcome) → lends_to variables true right ≡ true → using_paths no_tracks (uses_in_start types variables no_tracks implicit target right) holds o ≡ o
uses_none types variables implicit target nothing holds o suits = refl
uses_none types variables implicit target (value_of path) holds o suits = refl
uses_none types variables implicit target (allocates access items) holds o suits = absurd (cc suits)
uses_none types variables implicit target (allocates_default access) holds o suits = absurd (cc suits)
uses_none types variables implicit target (computes e) holds o suits = refl

lent_from : (types : List TypeForm) (variables : List VariableForm) (around : Around) (cleared : Bool) (target : PathForm) (right : RightForm) (holds after : Holds) (raising : Option Holds) → names_borrower variables target ≡ true → lends_to variables true right ≡ true → stmt_flow types variables (untracked around) cleared (assigns target right) holds ≡ goes (Some after) raising → slice_set holds target.root (right_hold no_tracks true right holds) ≡ after
lent_from types variables around cleared target right holds after raising is suits e =
    let implicit = around.effects.implicit in
    let o = gives_seen types variables no_tracks false cleared target.selectors target right holds in
    lent types variables cleared target right holds after raising is suits
    (sym (starts_none variables implicit right o suits) ∙ (sym (uses_none types variables implicit target right holds (initializes variables implicit right o) suits) ∙ e))

pub borrowers_move_nothing : BorrowersMoveNothing
borrowers_move_nothing types variables target right holds after is suits ends x ne =
    rw (← lent_from types variables ends.0 ends.1 target right holds after ends.2 is suits ends.3) (read_other holds target.root x (right_hold no_tracks true right holds) hold.Lost ne)

pub borrowers_own_nothing : BorrowersOwnNothing
borrowers_own_nothing types variables target right holds after is suits ends =
    rw (← lent_from types variables ends.0 ends.1 target right holds after ends.2 is suits ends.3)
    (set_nothing holds target.root (right_hold no_tracks true right holds) (lends_no_owner variables right holds suits))

-- A borrower that is declared.
declared_from : (types : List TypeForm) (variables : List VariableForm) (implicit : Implicit) (b : ℕ) (right : RightForm) (holds after : Holds) (raising : Option Holds) → is_borrower variables b ≡ true → lends_to variables true right ≡ true → declaration_flow types variables no_tracks implicit (declares b right) holds ≡ goes (Some after) raising → slice_set holds b (right_hold no_tracks true right holds) ≡ after
declared_from types variables implicit b right holds after raising is suits e =
    let spot = declared_at variables b in
    lent_variable types variables spot false b right holds after raising is suits
    (sym (starts_none variables implicit right (gives types variables no_tracks spot false b right holds) suits) ∙ e)

pub declared_borrowers_move_nothing : DeclaredBorrowersMoveNothing
declared_borrowers_move_nothing types variables implicit b right holds after raising is suits ends x ne =
    rw (← declared_from types variables implicit b right holds after raising is suits ends) (read_other holds b x (right_hold no_tracks true right holds) hold.Lost ne)

pub declared_borrowers_own_nothing : DeclaredBorrowersOwnNothing
declared_borrowers_own_nothing types variables implicit b right holds after raising is suits ends =
    rw (← declared_from types variables implicit b right holds after raising is suits ends)
    (set_nothing holds b (right_hold no_tracks true right holds) (lends_no_owner variables right holds suits))

-- What is lost is not lent.
not_lent : (types : List TypeForm) (variables : List VariableForm) (cleared : Bool) (cs : List ℕ) (target path : PathForm) (holds : Holds) → borrows_at variables cs target.root ≡ true → hold_at holds path.root ≡ hold.Lost → gives_seen types variables no_tracks false cleared cs target (value_of path) holds ≡ faults path.spot LostValue
not_lent types variables cleared [] target path holds is lost = rw (is, lost) refl
not_lent types variables cleared (c ∷ cs) target path holds is lost = absurd (cc is)

pub lost_is_not_borrowed : LostIsNotBorrowed
lost_is_not_borrowed types variables around cleared target path holds is lost =
    not_lent types variables cleared target.selectors target path holds (sym (borrows_is variables target) ∙ is) lost
