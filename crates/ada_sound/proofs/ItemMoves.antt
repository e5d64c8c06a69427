-- What the rules let through: what the items of an allocator move.

use Rattle.std.proofs.Common.{◌≡◌, ◌≢◌, ℕ, zero, suc, Bool, true, false, ◌||◌, List, [], ◌∷◌, ◌++◌, refl, sym, ap, ◌⊎◌, inl, inr}
use Rattle.std.specs.Prelude.{Option, Some, None, ◌==◌, if◌then◌else◌}
use Rattle.std.specs.List.{slice_get}
use Rattle.std.proofs.lemmas.Bool.{and_parts, eqb-true, eq-eqb}
use Rattle.ada_text.specs.declared.spot.Spot.{Spot}
use Rattle.ada_program.specs.ProgramForm.{TypeForm, VariableForm}
use Rattle.ada_program.specs.Form.{PathForm, ItemForm, item_of_path, allocates, allocates_default, assigns}
use Rattle.ada_program.specs.WellFormed.{names_borrower}
use Rattle.ada_program.specs.Nested.{is_one_of}
use Rattle.ada_flow.specs.declared.rule.Hold.TheVariants.{Own, Lost}
use Rattle.ada_flow.specs.declared.rule.Region.TheVariants.{Whole}
use Rattle.ada_flow.specs.Flow.{Holds, hold_at, goes, loses, initializes, uses_in_start, gives_seen, Around, stmt_flow, moves_it, moves_again, variable_of, moved_by_item, uses_in_item, uses_in_items, is_named, is_target, named_by_item, moved_behind, broken_in, moved_by_items, same_selectors, same_path}
use Rattle.ada_flow.specs.Tracking.{no_tracks}
use Rattle.ada_sound.specs.Agreement.{IsOwner}
use Rattle.ada_sound.specs.Owners.{IsVariable, IsElsewhere, IsSamePath, OnlyOwnersAreItems, ItemsMoveApart, ItemsOwnNothing, ItemsStayWhereRaised, DefaultsMoveNothing, DefaultsStayWhereRaised}
use Rattle.ada_sound.proofs.Invariant.{NoneBroken}
use Rattle.ada_sound.proofs.Followings.{first_kept, kept_apart}
use Rattle.ada_sound.proofs.Taken.{cleared_is, selectors_are}
use Rattle.ada_sound.proofs.Values.{read_other}
use Rattle.ada_sound.proofs.Moves.{target_at, kept_uses, assigned, assigns_by, loses_ended, loses_raised, stays_lost, moved_owner, ends_nothing}
use Rattle.ada_sound.proofs.Filled.{first_one, later_one}
use Rattle.ada_sound.specs.Untracked.{untracked}

-- Items: what one moves is a variable, or the component that the assignment goes to; and no item before it names that path.

-- Two paths that are the same by their parts are one.
same_parts : (p q : PathForm) → same_path p q ≡ true → IsSamePath p q
same_parts p q e =
    let parts = and_parts (p.root == q.root) (same_selectors p.selectors q.selectors) e in
    (eqb-true p.root q.root parts.0, selectors_are p.selectors q.selectors parts.1)

same_self : (cs : List ℕ) → same_selectors cs cs ≡ true
same_self [] = refl
same_self (c ∷ cs) = rw (eq-eqb c c refl) (same_self cs)

parts_same : (p q : PathForm) → IsSamePath p q → same_path p q ≡ true
parts_same p q (root, selectors) = rw (eq-eqb p.root q.root root, selectors) (same_self q.selectors)

-- A component is moved where the assignment goes to it.
target_is : (cs : List ℕ) (target path : PathForm) → target.selectors ≡ cs → is_target (target_at cs target) path ≡ true → (target.selectors ≢ []) × IsSamePath target path
target_is [] target path is e = absurd (cc e)
target_is (c ∷ cs) target path is e = (λ none. cc (is, none), same_parts target path e)

-- What an item moves.
abbrev Moved : Holds → (target path : PathForm) → Type 0
Moved holds target path = (IsVariable path × IsOwner (hold_at holds path.root)) ⊎ ((target.selectors ≢ []) × IsSamePath target path)

moved_as : (holds : Holds) (target path : PathForm) (cs : List ℕ) → path.selectors ≡ cs → moved_behind (is_target (target_at target.selectors target) path) cs (hold_at holds path.root) path.spot ≡ None → Moved holds target path
moved_as holds target path [] is e = inl (is, moved_owner (hold_at holds path.root) path.spot e)
moved_as holds target path (c ∷ cs) is e =
    inr (target_is target.selectors target path refl (cleared_is (is_target (target_at target.selectors target) path) (hold_at holds path.root) path.spot e).0)

record MovesOne (holds : Holds) (target : PathForm) (earlier : List PathForm) (path : PathForm) : Type 0 where
  moved : Moved holds target path
  new : is_named earlier path ≡ false

moves_one : (types : List TypeForm) (spot : Spot) (holds : Holds) (target : PathForm) (earlier : List PathForm) (path : PathForm) → NoneBroken holds (uses_in_item types spot (target_at target.selectors target) earlier (item_of_path path)) → MovesOne holds target earlier path
moves_one types spot holds target earlier path e = go (is_named earlier path) refl (first_kept holds _ [] e).0
  where
    go : (b : Bool) → is_named earlier path ≡ b → broken_in no_tracks holds (if b then moves_again path else moves_it (is_target (target_at target.selectors target) path) path) ≡ None → MovesOne holds target earlier path
    go true b m = absurd (cc m)
    go false b m = record { moved = moved_as holds target path path.selectors refl m; new = b }

named_later : (ps qs : List PathForm) (path : PathForm) → is_named qs path ≡ true → is_named (ps ++ qs) path ≡ true
named_later [] qs path e = e
named_later (p ∷ ps) qs path e = go (same_path p path) (named_later ps qs path e)
  where
    go : (b : Bool) → is_named (ps ++ qs) path ≡ true → (b || is_named (ps ++ qs) path) ≡ true
    go true later = refl
    go false later = later

item_kept : (types : List TypeForm) (spot : Spot) (holds : Holds) (target : PathForm) (earlier : List PathForm) (items : List ItemForm) (i : ℕ) (path : PathForm) → slice_get items i ≡ Some (item_of_path path) → NoneBroken holds (uses_in_items types spot (target_at target.selectors target) earlier items) → (before : List PathForm) × ((p : PathForm) → is_named earlier p ≡ true → is_named before p ≡ true) × MovesOne holds target before path
item_kept types spot holds target earlier [] i path found e = absurd (cc found)
item_kept types spot holds target earlier (item ∷ items) zero path found e =
    let to = target_at target.selectors target in
    let same : item ≡ item_of_path path = cc found in
    let here = (kept_apart holds (uses_in_item types spot to earlier item) (uses_in_items types spot to (named_by_item item ++ earlier) items) e).0 in
    (earlier, λ p is. is, moves_one types spot holds target earlier path (rw same at here))
item_kept types spot holds target earlier (item ∷ items) (suc i) path found e =
    let to = target_at target.selectors target in
    let later = (kept_apart holds (uses_in_item types spot to earlier item) (uses_in_items types spot to (named_by_item item ++ earlier) items) e).1 in
    let rest = item_kept types spot holds target (named_by_item item ++ earlier) items i path found later in
    (rest.0, λ p is. rest.1 p (named_later (named_by_item item) earlier p is), rest.2)

-- Of two items the later one moves another path.
named_first : (path other : PathForm) (earlier : List PathForm) → IsSamePath path other → is_named (path ∷ earlier) other ≡ true
named_first path other earlier same = rw (parts_same path other same) refl

first_apart : (types : List TypeForm) (spot : Spot) (holds : Holds) (target : PathForm) (earlier : List PathForm) (item : ItemForm) (items : List ItemForm) (i : ℕ) (path other : PathForm) → item ≡ item_of_path path → slice_get items i ≡ Some (item_of_path other) → NoneBroken holds (uses_in_items types spot (target_at target.selectors target) earlier (item ∷ items)) → IsSamePath path other → ⊥
first_apart types spot holds target earlier item items i path other is found e same =
    let to = target_at target.selectors target in
    let parts = kept_apart holds (uses_in_item types spot to earlier item) (uses_in_items types spot to (named_by_item item ++ earlier) items) e in
    let later : NoneBroken holds (uses_in_items types spot to (path ∷ earlier) items) = rw is at (parts.1) in
    let rest = item_kept types spot holds target (path ∷ earlier) items i other found later in
    let here : is_named rest.0 other ≡ true = rest.1 other (named_first path other earlier same) in
    cc (here, rest.2.new)

turned : (p q : PathForm) → IsSamePath p q → IsSamePath q p
turned p q (root, selectors) = (sym root, sym selectors)

items_apart : (types : List TypeForm) (spot : Spot) (holds : Holds) (target : PathForm) (earlier : List PathForm) (items : List ItemForm) (i k : ℕ) (path other : PathForm) → i ≢ k → slice_get items i ≡ Some (item_of_path path) → slice_get items k ≡ Some (item_of_path other) → NoneBroken holds (uses_in_items types spot (target_at target.selectors target) earlier items) → IsSamePath path other → ⊥
items_apart types spot holds target earlier [] i k path other ne found there e same = absurd (cc found)
items_apart types spot holds target earlier (item ∷ items) zero zero path other ne found there e same = absurd (ne refl)
items_apart types spot holds target earlier (item ∷ items) zero (suc k) path other ne found there e same = first_apart types spot holds target earlier item items k path other (cc found) there e same
items_apart types spot holds target earlier (item ∷ items) (suc i) zero path other ne found there e same =
    first_apart types spot holds target earlier item items i other path (cc there) found e (turned path other same)
items_apart types spot holds target earlier (item ∷ items) (suc i) (suc k) path other ne found there e same =
    let to = target_at target.selectors target in
    items_apart types spot holds target (named_by_item item ++ earlier) items i k path other (λ one. ne (ap suc one)) found there
    (kept_apart holds (uses_in_item types spot to earlier item) (uses_in_items types spot to (named_by_item item ++ earlier) items) e).1 same

-- A variable that an item moves is one of those that the assignment moves.
variable_here : (cs : List ℕ) (x : ℕ) (rest : List ℕ) → cs ≡ [] → is_one_of (variable_of cs x ++ rest) x ≡ true
variable_here [] x rest is = first_one x rest
variable_here (c ∷ cs) x rest is = absurd (cc is)

item_moved : (items : List ItemForm) (i : ℕ) (path : PathForm) → slice_get items i ≡ Some (item_of_path path) → path.selectors ≡ [] → is_one_of (moved_by_items no_tracks items) path.root ≡ true
item_moved [] i path found is = absurd (cc found)
item_moved (item ∷ items) zero path found is =
    let same : item ≡ item_of_path path = cc found in
    rw same (variable_here path.selectors path.root (moved_by_items no_tracks items) is)
item_moved (item ∷ items) (suc i) path found is = later_one (moved_by_item no_tracks item) (moved_by_items no_tracks items) path.root (item_moved items i path found is)

pub only_owners_are_items : OnlyOwnersAreItems
only_owners_are_items types variables target path access i items holds found kept =
    let all = assigns_by types variables (names_borrower variables target) kept.1 target (allocates access items) holds kept.2 kept.3 refl kept.4 in
    (item_kept types target.spot holds target [] items i path found all.kept).2.moved

pub items_move_apart : ItemsMoveApart
items_move_apart types variables target path other access i k items holds ne found there kept same =
    let all = assigns_by types variables (names_borrower variables target) kept.1 target (allocates access items) holds kept.2 kept.3 refl kept.4 in
    items_apart types target.spot holds target [] items i k path other ne found there all.kept same

pub items_own_nothing : ItemsOwnNothing
items_own_nothing types variables target path access i items holds after is found other ends =
    ends_nothing types variables (names_borrower variables target) ends.1 target (allocates access items) holds after ends.2 path.root refl other
    (item_moved items i path found is) ends.3

pub items_stay_where_raised : ItemsStayWhereRaised
items_stay_where_raised types variables target access items holds raised raises =
    (assigns_by types variables (names_borrower variables target) raises.1 target (allocates access items) holds raises.2 (Some raised) refl raises.3).raises raised refl

-- Without items nothing is moved.
default_assigned : (borrows : Bool) (target : PathForm) (cs : List ℕ) (access : ℕ) (holds : Holds) (x : ℕ) → target.selectors ≡ cs → IsElsewhere target x → hold_at (assigned borrows cs target.root (allocates_default access) holds) x ≡ hold_at holds x
default_assigned borrows target [] access holds x is other = read_other holds target.root x (Own Whole) Lost (other is)
default_assigned borrows target (c ∷ cs) access holds x is other = refl

-- It waits for the initialization, which may free objects.
default_goes : (types : List TypeForm) (variables : List VariableForm) (around : Around) (cleared : Bool) (target : PathForm) (access : ℕ) (holds : Holds) (normal raising : Option Holds) → stmt_flow types variables (untracked around) cleared (assigns target (allocates_default access)) holds ≡ goes normal raising → loses variables (around.effects.implicit.start_frees access) (gives_seen types variables no_tracks false cleared target.selectors target (allocates_default access) holds) ≡ goes normal raising
default_goes types variables around cleared target access holds normal raising e =
    let right = allocates_default access in
    (kept_uses (uses_in_start types variables no_tracks around.effects.implicit target right) holds
    (initializes variables around.effects.implicit right (gives_seen types variables no_tracks false cleared target.selectors target right holds)) normal raising e).1

pub defaults_move_nothing : DefaultsMoveNothing
defaults_move_nothing types variables around cleared target access holds after raising e x v is other =
    let may = around.effects.implicit.start_frees access in
    let borrows = names_borrower variables target in
    let right = allocates_default access in
    let less = loses_ended variables may (gives_seen types variables no_tracks false cleared target.selectors target right holds) after raising (default_goes types variables around cleared target access holds (Some after) raising e) in
    let all = assigns_by types variables borrows cleared target right holds (Some less.0) less.1 refl less.2 in
    let same : less.0 ≡ assigned borrows target.selectors target.root right holds = cc (all.ends) in
    let stays : hold_at less.0 x ≡ hold_at holds x = rw same (default_assigned borrows target target.selectors access holds x refl other) in
    rw less.3 (rw stays at (stays_lost variables may less.0 x v is))

pub defaults_stay_where_raised : DefaultsStayWhereRaised
defaults_stay_where_raised types variables around cleared target access holds raised normal e x v is =
    let may = around.effects.implicit.start_frees access in
    let right = allocates_default access in
    let less = loses_raised variables may (gives_seen types variables no_tracks false cleared target.selectors target right holds) raised normal (default_goes types variables around cleared target access holds normal (Some raised) e) in
    let all = assigns_by types variables (names_borrower variables target) cleared target right holds less.1 (Some less.0) refl less.2 in
    let same : less.0 ≡ holds = all.raises less.0 refl in
    rw less.3 (rw same (stays_lost variables may holds x v is))
