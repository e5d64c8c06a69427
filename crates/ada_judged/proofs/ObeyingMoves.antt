-- What is moved, as it is judged: a tracked component is a variable that is moved, and no other path changes its place.

use Rattle.std.proofs.Common.{◌≡◌, ℕ, ◌+◌, ◌<◌, Bool, true, false, List, [], ◌∷◌, ◌++◌, Option, Some, None, refl, sym, ap, ◌∙◌, arith}
use Rattle.std.specs.Prelude.{◌==◌, ◌&&◌, ◌||◌, if◌then◌else◌}
use Rattle.std.specs.List.{slice_set}
use Rattle.ada_text.specs.declared.spot.Spot.{Spot}
use Rattle.ada_program.specs.Form.{PathForm, ItemForm, null_item, item_of_path, item_of_value, item_of_record, RightForm, nothing, value_of, allocates, allocates_default, computes}
use Rattle.ada_program.specs.ProgramForm.{TypeForm}
use Rattle.ada_flow.specs.declared.rule.Hold.{Hold}
use Rattle.ada_flow.specs.declared.rule.Hold.TheVariants.{Null, Kept, Own, Alias, Lost}
use Rattle.ada_flow.specs.Tracking.{Tracks, seen_from, seen, is_tracked, no_tracks, begins_with, behind_first}
use Rattle.ada_flow.specs.Flow.{Holds, ends_with, variable_of, moves_it, moves_again, same_selectors, same_path, is_named, is_target, item_move, named_by_item, uses_in_item, uses_in_items, value_use, uses_in_right, taken_by, moved_behind, tracked_by, moved_from, hold_at, leftmost, leaves_owners, copied_to, shares_it, reaches_it, broken_in, broken_among, moved_by_items, moved_by_right, right_hold, without_values, evaluation_raises, gives_value}
use Rattle.ada_tracked.specs.Forms.{seen_item, seen_items, seen_right}
use Rattle.ada_tracked.specs.Simple.{PathIsSimple}
use Rattle.ada_tracked.proofs.Lists.{is_same, same_number}
use Rattle.ada_tracked.proofs.Paths.{within}
use Rattle.ada_judged.specs.Obeying.{ItemIsOrderly, ItemsAreOrderly, RightIsOrderly, GoesAlike}
use Rattle.ada_judged.proofs.ObeyingPaths.{path_of, is_end, Sees, plainly, tracked, sees, spot_alike, raises_alike, tracked_ends}
use Rattle.ada_judged.proofs.ObeyingExpressions.{first_none, second_none, both_none, first_unbroken, second_unbroken, unbroken, using_alike, same_outcome, compares_alike, expression_unbroken, expression_raises_alike}

-- Both tests are true.
pub first_true : (a b : Bool) → (a && b) ≡ true → a ≡ true
first_true true b e = refl
first_true false b e = e

pub second_true : (a b : Bool) → (a && b) ≡ true → b ≡ true
second_true true b e = e
second_true false b e = absurd (cc)

pub both_true : (a b : Bool) → a ≡ true → b ≡ true → (a && b) ≡ true
both_true a b e f = rw (e, f)

-- A component owns nothing that may be moved unless it is overwritten.
never_taken : (hold : Hold) (s : Spot) → taken_by false hold s ≡ None → ⊥
never_taken Null s e = cc
never_taken (Kept r) s e = cc
never_taken (Own r) s e = cc
never_taken (Alias r) s e = cc
never_taken Lost s e = cc

never_tracked : (hold : Hold) (s : Spot) → tracked_by false hold s ≡ None → ⊥
never_tracked Null s e = cc
never_tracked (Kept r) s e = cc
never_tracked (Own r) s e = cc
never_tracked (Alias r) s e = cc
never_tracked Lost s e = cc

moved_from_unbroken :
    (component overwritten judged : Bool) (cs : List ℕ) (hold : Hold) (s : Spot) → (component ≡ true → cs ≡ []) → (overwritten ≡ true → is_end cs ≡ false → judged ≡ true)
    → moved_from component overwritten cs hold s ≡ None → moved_behind judged cs hold s ≡ None
moved_from_unbroken true true judged [] hold s h g e = e
moved_from_unbroken true false judged [] hold s h g e = absurd (never_tracked hold s e)
moved_from_unbroken false overwritten judged [] hold s h g e = e
moved_from_unbroken true overwritten judged (c ∷ cs) hold s h g e = absurd (let f = h refl in cc)
moved_from_unbroken false true judged (c ∷ cs) hold s h g e = ap (λ (b : Bool). taken_by b hold s) (g refl refl) ∙ e
moved_from_unbroken false false judged (c ∷ cs) hold s h g e = absurd (never_taken hold s e)

-- The same selectors are one list.
pub same_list : (cs ds : List ℕ) → same_selectors cs ds ≡ true → cs ≡ ds
same_list [] [] e = refl
same_list [] (d ∷ ds) e = absurd (cc)
same_list (c ∷ cs) [] e = absurd (cc)
same_list (c ∷ cs) (d ∷ ds) e =
    let f : c ≡ d = is_same c d (first_true (c == d) (same_selectors cs ds) e) in
    let g : cs ≡ ds = same_list cs ds (second_true (c == d) (same_selectors cs ds) e) in
    cc

pub list_same : (cs : List ℕ) → same_selectors cs cs ≡ true
list_same [] = refl
list_same (c ∷ cs) = both_true (c == c) (same_selectors cs cs) (same_number c) (list_same cs)

-- How a path is seen is told by its root and its selectors.
root_from : (components : List ℕ) (n x : ℕ) (cs : List ℕ) (r q : Bool) (s t : Spot) → (seen_from components n (path_of x r cs s)).root ≡ (seen_from components n (path_of x q cs t)).root
root_from [] n x cs r q s t = refl
root_from (d ∷ ds) n x cs r q s t = picked (begins_with d x cs) (root_from ds (n + 1) x cs r q s t)
  where
    picked : (b : Bool) → (seen_from ds (n + 1) (path_of x r cs s)).root ≡ (seen_from ds (n + 1) (path_of x q cs t)).root → (if b then path_of n false (behind_first cs) s else seen_from ds (n + 1) (path_of x r cs s)).root ≡ (if b then path_of n false (behind_first cs) t else seen_from ds (n + 1) (path_of x q cs t)).root
    picked true more = refl
    picked false more = more

selectors_from : (components : List ℕ) (n x : ℕ) (cs : List ℕ) (r q : Bool) (s t : Spot) → (seen_from components n (path_of x r cs s)).selectors ≡ (seen_from components n (path_of x q cs t)).selectors
selectors_from [] n x cs r q s t = refl
selectors_from (d ∷ ds) n x cs r q s t = picked (begins_with d x cs) (selectors_from ds (n + 1) x cs r q s t)
  where
    picked : (b : Bool) → (seen_from ds (n + 1) (path_of x r cs s)).selectors ≡ (seen_from ds (n + 1) (path_of x q cs t)).selectors → (if b then path_of n false (behind_first cs) s else seen_from ds (n + 1) (path_of x r cs s)).selectors ≡ (if b then path_of n false (behind_first cs) t else seen_from ds (n + 1) (path_of x q cs t)).selectors
    picked true more = refl
    picked false more = more

module _ (tracks : Tracks) where
  same_root : (p q : PathForm) → same_path p q ≡ true → (seen tracks p).root ≡ (seen tracks q).root
  same_root p q e =
      ap (λ (x : ℕ). (seen tracks (path_of x p.of_record p.selectors p.spot)).root) (is_same p.root q.root (first_true (p.root == q.root) (same_selectors p.selectors q.selectors) e))
      ∙ ap (λ (cs : List ℕ). (seen tracks (path_of q.root p.of_record cs p.spot)).root) (same_list p.selectors q.selectors (second_true (p.root == q.root) (same_selectors p.selectors q.selectors) e))
      ∙ root_from tracks.components tracks.first q.root q.selectors p.of_record q.of_record p.spot q.spot

  pub same_behind : (p q : PathForm) → same_path p q ≡ true → (seen tracks p).selectors ≡ (seen tracks q).selectors
  same_behind p q e =
      ap (λ (x : ℕ). (seen tracks (path_of x p.of_record p.selectors p.spot)).selectors) (is_same p.root q.root (first_true (p.root == q.root) (same_selectors p.selectors q.selectors) e))
      ∙ ap (λ (cs : List ℕ). (seen tracks (path_of q.root p.of_record cs p.spot)).selectors) (same_list p.selectors q.selectors (second_true (p.root == q.root) (same_selectors p.selectors q.selectors) e))
      ∙ selectors_from tracks.components tracks.first q.root q.selectors p.of_record q.of_record p.spot q.spot

  -- Two paths that are one are one as they are judged, and the other way round.
  pub same_seen : (p q : PathForm) → same_path p q ≡ true → same_path (seen tracks p) (seen tracks q) ≡ true
  same_seen p q e =
      let x = (seen tracks p).root in
      let cs = (seen tracks p).selectors in
      ap (λ (y : ℕ). (x == y) && same_selectors cs (seen tracks q).selectors) (sym (same_root p q e))
      ∙ ap (λ (ds : List ℕ). (x == x) && same_selectors cs ds) (sym (same_behind p q e))
      ∙ both_true (x == x) (same_selectors cs cs) (same_number x) (list_same cs)

  seen_same_by : (p q : PathForm) → PathIsSimple tracks.first p → PathIsSimple tracks.first q → (a b : PathForm) → Sees tracks p a → Sees tracks q b → a.root ≡ b.root → a.selectors ≡ b.selectors → (p.root ≡ q.root) × (p.selectors ≡ q.selectors)
  seen_same_by p q h g a b (plainly e f) (plainly e' f') same behind = (sym (ap (λ (r : PathForm). r.root) e) ∙ same ∙ ap (λ (r : PathForm). r.root) e', sym (ap (λ (r : PathForm). r.selectors) e) ∙ behind ∙ ap (λ (r : PathForm). r.selectors) e')
  seen_same_by p q h g a b (plainly e f) (tracked i c cs root is at e' f') same behind =
      let below : p.root < tracks.first = within tracks.first p.root p.selectors h in
      let number : p.root ≡ tracks.first + i = sym (ap (λ (r : PathForm). r.root) e) ∙ same ∙ ap (λ (r : PathForm). r.root) e' in
      absurd (omega (arith, below, number))
  seen_same_by p q h g a b (tracked i c cs root is at e' f') (plainly e f) same behind =
      let below : q.root < tracks.first = within tracks.first q.root q.selectors g in
      let number : q.root ≡ tracks.first + i = sym (ap (λ (r : PathForm). r.root) e) ∙ sym same ∙ ap (λ (r : PathForm). r.root) e' in
      absurd (omega (arith, below, number))
  seen_same_by p q h g a b (tracked i c cs root is at e f) (tracked j d ds root' is' at' e' f') same behind =
      let number : tracks.first + i ≡ tracks.first + j = sym (ap (λ (r : PathForm). r.root) e) ∙ same ∙ ap (λ (r : PathForm). r.root) e' in
      let index : i ≡ j = omega (arith, number) in
      let component : c ≡ d = cc (at, at', index) in
      let rest : cs ≡ ds = sym (ap (λ (r : PathForm). r.selectors) e) ∙ behind ∙ ap (λ (r : PathForm). r.selectors) e' in
      (root ∙ sym root', is ∙ ap (λ (x : ℕ). x ∷ cs) component ∙ ap (λ (xs : List ℕ). d ∷ xs) rest ∙ sym is')

  pub seen_same : (p q : PathForm) → PathIsSimple tracks.first p → PathIsSimple tracks.first q → same_path (seen tracks p) (seen tracks q) ≡ true → same_path p q ≡ true
  seen_same p q h g e =
      let a = seen tracks p in
      let b = seen tracks q in
      let one = seen_same_by p q h g a b (sees tracks p) (sees tracks q)
      (is_same a.root b.root (first_true (a.root == b.root) (same_selectors a.selectors b.selectors) e))
      (same_list a.selectors b.selectors (second_true (a.root == b.root) (same_selectors a.selectors b.selectors) e)) in
      ap (λ (x : ℕ). (x == q.root) && same_selectors p.selectors q.selectors) one.0
      ∙ ap (λ (cs : List ℕ). (q.root == q.root) && same_selectors cs q.selectors) one.1
      ∙ both_true (q.root == q.root) (same_selectors q.selectors q.selectors) (same_number q.root) (list_same q.selectors)

  -- What is not broken by a move is not broken as it is judged.
  pub move_unbroken :
      (overwritten judged : Bool) (path : PathForm) (holds : Holds) → (overwritten ≡ true → is_end (seen tracks path).selectors ≡ false → judged ≡ true)
      → broken_in tracks holds (moves_it overwritten path) ≡ None → broken_in no_tracks holds (moves_it judged (seen tracks path)) ≡ None
  move_unbroken overwritten judged path holds h e =
      let p = seen tracks path in
      ap (moved_behind judged p.selectors (hold_at holds p.root)) (spot_alike tracks path p (sees tracks path))
      ∙ moved_from_unbroken (is_tracked tracks path) overwritten judged p.selectors (hold_at holds p.root) path.spot (tracked_ends tracks path p (sees tracks path)) h e

  -- Paths as they are judged.
  abbrev seen_paths : List PathForm → List PathForm
  seen_paths [] = []
  seen_paths (p ∷ ps) = seen tracks p ∷ seen_paths ps

  abbrev AllSimple : List PathForm → Type 0
  AllSimple [] = Unit {0}
  AllSimple (p ∷ ps) = PathIsSimple tracks.first p × AllSimple ps

  not_same : (a b : Bool) → (b ≡ true → a ≡ true) → a ≡ false → b ≡ false
  not_same a true h e = absurd (let f = h refl in cc)
  not_same a false h e = refl

  none_named : (earlier : List PathForm) (path : PathForm) → AllSimple earlier → PathIsSimple tracks.first path → is_named earlier path ≡ false → is_named (seen_paths earlier) (seen tracks path) ≡ false
  none_named [] path h g e = refl
  none_named (p ∷ ps) path h g e =
      both_false (same_path (seen tracks p) (seen tracks path)) (is_named (seen_paths ps) (seen tracks path))
      (not_same (same_path p path) (same_path (seen tracks p) (seen tracks path)) (seen_same p path h.0 g) (first_false (same_path p path) (is_named ps path) e))
      (none_named ps path h.1 g (second_false (same_path p path) (is_named ps path) e))
    where
      first_false : (a b : Bool) → (a || b) ≡ false → a ≡ false
      first_false true b e = absurd (cc)
      first_false false b e = refl

      second_false : (a b : Bool) → (a || b) ≡ false → b ≡ false
      second_false true b e = absurd (cc)
      second_false false b e = e

      both_false : (a b : Bool) → a ≡ false → b ≡ false → (a || b) ≡ false
      both_false a b e f = rw (e, f)

  -- What an assignment goes to, and what it does as it is judged: what the first is, and is no variable, the second is.
  abbrev pub GoesTo : (target judged : Option PathForm) → Type 0
  GoesTo target judged = (path : PathForm) → is_target target path ≡ true → is_end (seen tracks path).selectors ≡ false → is_target judged (seen tracks path) ≡ true

  pub to_none : GoesTo None None
  to_none path e f = e

  pub to_tracked : (target : PathForm) → is_tracked tracks target ≡ true → GoesTo (Some target) None
  to_tracked target is path e f =
      let g : is_end (seen tracks path).selectors ≡ true = ap is_end (sym (same_behind target path e) ∙ tracked_ends tracks target (seen tracks target) (sees tracks target) is) in
      absurd (cc)

  pub to_component : (target : PathForm) → GoesTo (Some target) (Some (seen tracks target))
  to_component target path e f = same_seen target path e

  -- Where the value of a path is moved, it is overwritten as it is judged, too.
  abbrev pub IsCleared : RightForm → (cleared other : Bool) → Type 0
  IsCleared nothing cleared other = Unit {0}
  IsCleared (value_of path) cleared other = cleared ≡ true → is_end (seen tracks path).selectors ≡ false → other ≡ true
  IsCleared (allocates access items) cleared other = Unit {0}
  IsCleared (allocates_default access) cleared other = Unit {0}
  IsCleared (computes e) cleared other = Unit {0}

  module _ (types : List TypeForm) (spot : Spot) (target judged : Option PathForm) (to : GoesTo target judged) (holds : Holds) where
    path_unbroken :
        (earlier : List PathForm) (path : PathForm) → AllSimple earlier → PathIsSimple tracks.first path
        → broken_in tracks holds (item_move target earlier path) ≡ None → broken_in no_tracks holds (item_move judged (seen_paths earlier) (seen tracks path)) ≡ None
    path_unbroken earlier path h g e = named (is_named earlier path) refl e
      where
        named : (b : Bool) → is_named earlier path ≡ b → broken_in tracks holds (if b then moves_again path else moves_it (is_target target path) path) ≡ None → broken_in no_tracks holds (item_move judged (seen_paths earlier) (seen tracks path)) ≡ None
        named true is k = absurd (cc)
        named false is k =
            ap (λ (b : Bool). broken_in no_tracks holds (if b then moves_again (seen tracks path) else moves_it (is_target judged (seen tracks path)) (seen tracks path))) (none_named earlier path h g is)
            ∙ move_unbroken (is_target target path) (is_target judged (seen tracks path)) path holds (to path) k

    item_unbroken :
        (earlier : List PathForm) (i : ItemForm) → AllSimple earlier → ItemIsOrderly tracks i → broken_among tracks holds (uses_in_item types spot target earlier i) ≡ None
        → broken_among no_tracks holds (uses_in_item types spot judged (seen_paths earlier) (seen_item tracks i)) ≡ None
    item_unbroken earlier null_item h g e = refl
    item_unbroken earlier (item_of_path path) h g e =
        both_none (broken_in no_tracks holds (item_move judged (seen_paths earlier) (seen tracks path))) None
        (path_unbroken earlier path h g.0 (first_none (broken_in tracks holds (item_move target earlier path)) None e)) refl
    item_unbroken earlier (item_of_value f) h g e = expression_unbroken tracks f holds e
    item_unbroken earlier (item_of_record p) h g e =
        let copy = copied_to (leaves_owners types p.record_type) spot in
        let share = broken_in tracks holds (shares_it p) in
        let reach = broken_in tracks holds (reaches_it p.object) in
        let other = broken_in no_tracks holds (reaches_it (seen tracks p.object)) in
        let more = leftmost share (leftmost reach None) in
        both_none copy (leftmost other None) (first_none copy more e)
        (both_none other None
        (sym (compares_alike tracks holds p.object) ∙ first_none reach None (second_none share (leftmost reach None) (second_none copy more e))) refl)

    named_simple : (earlier : List PathForm) (i : ItemForm) → AllSimple earlier → ItemIsOrderly tracks i → AllSimple (named_by_item i ++ earlier)
    named_simple earlier null_item h g = h
    named_simple earlier (item_of_path path) h g = (g.0, h)
    named_simple earlier (item_of_value f) h g = h
    named_simple earlier (item_of_record p) h g = h

    named_seen : (earlier : List PathForm) (i : ItemForm) → seen_paths (named_by_item i ++ earlier) ≡ named_by_item (seen_item tracks i) ++ seen_paths earlier
    named_seen earlier null_item = refl
    named_seen earlier (item_of_path path) = refl
    named_seen earlier (item_of_value f) = refl
    named_seen earlier (item_of_record p) = refl

    pub items_unbroken :
        (earlier : List PathForm) (is : List ItemForm) → AllSimple earlier → ItemsAreOrderly tracks is → broken_among tracks holds (uses_in_items types spot target earlier is) ≡ None
        → broken_among no_tracks holds (uses_in_items types spot judged (seen_paths earlier) (seen_items tracks is)) ≡ None
    items_unbroken earlier [] h g e = refl
    items_unbroken earlier (i ∷ is) h g e =
        let us = uses_in_item types spot target earlier i in
        let vs = uses_in_items types spot target (named_by_item i ++ earlier) is in
        unbroken no_tracks holds (uses_in_item types spot judged (seen_paths earlier) (seen_item tracks i)) (uses_in_items types spot judged (named_by_item (seen_item tracks i) ++ seen_paths earlier) (seen_items tracks is))
        (item_unbroken earlier i h g.0 (first_unbroken tracks holds us vs e))
        (ap (λ (ps : List PathForm). broken_among no_tracks holds (uses_in_items types spot judged ps (seen_items tracks is))) (sym (named_seen earlier i))
        ∙ items_unbroken (named_by_item i ++ earlier) is (named_simple earlier i h g.0) g.1 (second_unbroken tracks holds us vs e))

    value_unbroken : (borrows cleared other : Bool) (path : PathForm) → (cleared ≡ true → is_end (seen tracks path).selectors ≡ false → other ≡ true) → broken_in tracks holds (value_use borrows cleared path) ≡ None → broken_in no_tracks holds (value_use borrows other (seen tracks path)) ≡ None
    value_unbroken true cleared other path h e = sym (compares_alike tracks holds path) ∙ e
    value_unbroken false cleared other path h e = move_unbroken cleared other path holds h e

    pub right_unbroken :
        (borrows cleared other : Bool) (right : RightForm) → RightIsOrderly tracks right → IsCleared right cleared other → broken_among tracks holds (uses_in_right types spot borrows cleared target right) ≡ None
        → broken_among no_tracks holds (uses_in_right types spot borrows other judged (seen_right tracks right)) ≡ None
    right_unbroken borrows cleared other nothing g h e = refl
    right_unbroken borrows cleared other (value_of path) g h e =
        both_none (broken_in no_tracks holds (value_use borrows other (seen tracks path))) None
        (value_unbroken borrows cleared other path h (first_none (broken_in tracks holds (value_use borrows cleared path)) None e)) refl
    right_unbroken borrows cleared other (allocates access items) g h e = items_unbroken [] items tt g e
    right_unbroken borrows cleared other (allocates_default access) g h e = refl
    right_unbroken borrows cleared other (computes f) g h e = expression_unbroken tracks f holds e

  -- What is moved is the same.
  pub items_move_alike : (is : List ItemForm) → moved_by_items no_tracks (seen_items tracks is) ≡ moved_by_items tracks is
  items_move_alike [] = refl
  items_move_alike (null_item ∷ is) = items_move_alike is
  items_move_alike (item_of_path path ∷ is) = ap (λ (xs : List ℕ). variable_of (seen tracks path).selectors (seen tracks path).root ++ xs) (items_move_alike is)
  items_move_alike (item_of_value e ∷ is) = items_move_alike is
  items_move_alike (item_of_record p ∷ is) = items_move_alike is

  pub right_moves_alike : (borrows : Bool) (right : RightForm) → moved_by_right no_tracks borrows (seen_right tracks right) ≡ moved_by_right tracks borrows right
  right_moves_alike borrows nothing = refl
  right_moves_alike borrows (value_of path) = refl
  right_moves_alike borrows (allocates access items) = items_move_alike items
  right_moves_alike borrows (allocates_default access) = refl
  right_moves_alike borrows (computes e) = refl

  right_holds_alike : (borrows : Bool) (right : RightForm) (holds : Holds) → right_hold no_tracks borrows (seen_right tracks right) holds ≡ right_hold tracks borrows right holds
  right_holds_alike borrows nothing holds = refl
  right_holds_alike borrows (value_of path) holds = refl
  right_holds_alike borrows (allocates access items) holds = refl
  right_holds_alike borrows (allocates_default access) holds = refl
  right_holds_alike borrows (computes e) holds = refl

  pub evaluation_alike : (right : RightForm) → RightIsOrderly tracks right → evaluation_raises (seen_right tracks right) ≡ evaluation_raises right
  evaluation_alike nothing g = refl
  evaluation_alike (value_of path) g = raises_alike tracks path (seen tracks path) g.1 (sees tracks path)
  evaluation_alike (allocates access items) g = refl
  evaluation_alike (allocates_default access) g = refl
  evaluation_alike (computes e) g = expression_raises_alike tracks e g

  -- A variable gets a value, or a tracked component does.
  pub gives_alike :
      (types : List TypeForm) (spot : Spot) (borrows cleared other : Bool) (target judged : Option PathForm) (x : ℕ) (right : RightForm) (holds : Holds) → (to : GoesTo target judged)
      → RightIsOrderly tracks right → IsCleared right cleared other
      → GoesAlike (gives_value types tracks spot borrows cleared target x right holds) (gives_value types no_tracks spot borrows other judged x (seen_right tracks right) holds)
  gives_alike types spot borrows cleared other target judged x right holds to g h =
      let moved = moved_by_right tracks borrows right in
      let after = slice_set (without_values moved holds) x (right_hold tracks borrows right holds) in
      let raised = evaluation_raises (seen_right tracks right) in
      using_alike (broken_among tracks holds (uses_in_right types spot borrows cleared target right)) (broken_among no_tracks holds (uses_in_right types spot borrows other judged (seen_right tracks right)))
      (ends_with (evaluation_raises right) holds after)
      (ends_with raised holds
      (slice_set (without_values (moved_by_right no_tracks borrows (seen_right tracks right)) holds) x (right_hold no_tracks borrows (seen_right tracks right) holds)))
      (right_unbroken types spot target judged to holds borrows cleared other right g h)
      (λ unused. same_outcome (ends_with (evaluation_raises right) holds after)
      (ends_with raised holds
      (slice_set (without_values (moved_by_right no_tracks borrows (seen_right tracks right)) holds) x (right_hold no_tracks borrows (seen_right tracks right) holds)))
      (ap (λ (b : Bool). ends_with b holds after) (sym (evaluation_alike right g))
      ∙ ap (λ (xs : List ℕ). ends_with raised holds (slice_set (without_values xs holds) x (right_hold tracks borrows right holds))) (sym (right_moves_alike borrows right))
      ∙ ap (λ (hold : Hold). ends_with raised holds (slice_set (without_values (moved_by_right no_tracks borrows (seen_right tracks right)) holds) x hold)) (sym (right_holds_alike borrows right holds))))
