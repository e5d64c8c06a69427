-- The values of an allocator's items are in hand once the variables that they move are lost.

use Rattle.std.proofs.Common.{◌≡◌, ◌≢◌, ℕ, zero, suc, ◌+◌, Bool, true, false, ◌||◌, ◌&&◌, List, [], ◌∷◌, ◌++◌, length, take, reverse, refl, sym, ap, ◌∙◌, ◌⊎◌, inl, inr, arith}
use Rattle.std.proofs.lemmas.Bool.{and_parts, eqb-true, eq-eqb}
use Rattle.std.proofs.lemmas.List.{reverse-append, append_assoc, append-nil}
use Rattle.std.specs.Prelude.{Option, Some, None, ◌==◌, if◌then◌else◌}
use Rattle.std.specs.List.{slice_get, slice_index_or}
use Rattle.ada_text.specs.declared.spot.Spot.{Spot}
use Rattle.ada_program.specs.declared.program.ComponentKind.{ComponentKind}
use Rattle.ada_program.specs.declared.program.ComponentKind.TheVariants as component_kinds
use Rattle.ada_program.specs.declared.program.VariableKind.{VariableKind}
use Rattle.ada_program.specs.Form.{PathForm, ItemForm, null_item, item_of_path, item_of_value, item_of_record}
use Rattle.ada_program.specs.ProgramForm.{TypeForm, VariableForm}
use Rattle.ada_program.specs.WellFormed.{access_of, path_access, held_kind, component_kind, kind_among, reached_components, component_item_fits, items_fit}
use Rattle.ada_flow.specs.declared.rule.Hold.{Hold}
use Rattle.ada_flow.specs.declared.rule.Hold.TheVariants as hold
use Rattle.ada_program.specs.Nested.{is_one_of}
use Rattle.ada_flow.specs.Flow.{Holds, hold_at, moves_it, moves_again, variable_of, moved_by_item, same_selectors, same_path, is_named, is_target, item_move, named_by_item, uses_in_item, moved_by, taken_by, moved_behind, broken_in, left_by_move, without_value, without_values, moved_by_items}
use Rattle.ada_flow.specs.Tracking.{no_tracks}
use Rattle.ada_meaning.specs.declared.state.Id.{Id}
use Rattle.ada_meaning.specs.declared.state.Value.{Value}
use Rattle.ada_meaning.specs.declared.state.Value.TheVariants.{Null, Names}
use Rattle.ada_meaning.specs.Step.{selected}
use Rattle.ada_meaning.specs.Named.{Object, named}
use Rattle.ada_meaning.specs.Heap.{finds}
use Rattle.ada_owners.specs.Places.{Place, variable, component, value_at, access_at}
use Rattle.ada_owners.specs.Reliance.{IsOf, Owns, kind_of, IsInHand, IsNotAmong, AreInHand}
use Rattle.ada_owners.specs.Walks.{walk}
use Rattle.ada_owners.proofs.Kernel as kernel
use Rattle.ada_owners.proofs.Kernel.{same_or_not}
use Rattle.ada_owners.proofs.Objects.{read_other, present_at}
use Rattle.ada_typed.specs.Holding.{HasKind, HaveKinds, cells_of}
use Rattle.ada_sound.proofs.Fits.{Outsiders, Fit, is_object, plain_object, IsSaid, IsOwn, kinds_of, stacked, none_spared, hold_in, place_at}
use Rattle.ada_sound.proofs.Assigned.{kind_names}
use Rattle.ada_sound.proofs.Taken.{selectors_are}
use Rattle.ada_sound.proofs.Roots.{value_root}
use Rattle.ada_sound.proofs.Handings.{this_is}
use Rattle.ada_sound.proofs.Taken.{moved_some}
use Rattle.ada_sound.proofs.Walks.{plain_whole}
use Rattle.ada_sound.proofs.Invariant.{begun, along, NoneBroken, back_onto, named_of, ItemsKeep, DoneKeep, FilledBy, Filled}
use Rattle.ada_sound.proofs.Followings.{first_kept}

-- What a variable holds once some were moved.

-- The variable that was moved.
moved_here : (holds : Holds) (x : ℕ) → hold_at (without_value x holds) x ≡ left_by_move (hold_at holds x)
moved_here [] x = refl
moved_here (h ∷ hs) zero = refl
moved_here (h ∷ hs) (suc x) = moved_here hs x

-- What was moved twice holds no less than what was moved once.
moved_twice : (h : Hold) → left_by_move (left_by_move h) ≡ left_by_move h
moved_twice hold.Null = refl
moved_twice (hold.Kept r) = refl
moved_twice (hold.Own r) = refl
moved_twice (hold.Alias r) = refl
moved_twice hold.Lost = refl

-- A variable that is one of those that were moved holds what is left by that, and another one what it held.
abbrev pub hold_left : Bool → Hold → Hold
hold_left moved h = if moved then left_by_move h else h

left_again : (b : Bool) (h : Hold) → hold_left b (left_by_move h) ≡ left_by_move h
left_again true h = moved_twice h
left_again false h = refl

one_other : (y x : ℕ) (rest : Bool) → x ≢ y → (y == x) || rest ≡ rest
one_other y x rest ne = go (y == x) refl
  where
    go : (b : Bool) → (y == x) ≡ b → b || rest ≡ rest
    go true e = absurd (ne (sym (eqb-true y x e)))
    go false e = refl

pub without_is : (xs : List ℕ) (holds : Holds) (x : ℕ) → hold_at (without_values xs holds) x ≡ hold_left (is_one_of xs x) (hold_at holds x)
without_is [] holds x = refl
without_is (y ∷ ys) holds x = without_is ys (without_value y holds) x ∙ go (same_or_not x y)
  where
    go : (x ≡ y) ⊎ (x ≢ y) → hold_left (is_one_of ys x) (hold_at (without_value y holds) x) ≡ hold_left (is_one_of (y ∷ ys) x) (hold_at holds x)
    go (inl e) = rw (e, moved_here holds y, eq-eqb y y refl) (left_again (is_one_of ys y) (hold_at holds y))
    go (inr ne) = rw (read_other holds y x (left_by_move (hold_at holds y)) hold.Lost ne, one_other y x (is_one_of ys x) ne) refl

-- Values of items, in the order of the components.
abbrev pub FilledInOrder : List Object → List Value → List ItemForm → List Value → Type 0
FilledInOrder heap places [] vs = Unit {0}
FilledInOrder heap places (i ∷ items) [] = ⊥
FilledInOrder heap places (i ∷ items) (v ∷ vs) = FilledBy heap places i v × FilledInOrder heap places items vs

-- The newest operands are those values in reverse.
turned : (v : Value) (vs later : List Value) → reverse (v ∷ vs) ++ later ≡ reverse vs ++ v ∷ later
turned v vs later = ap (λ ws. ws ++ later) (reverse-append (v ∷ []) vs) ∙ append_assoc (reverse vs) (v ∷ []) later

in_order : (heap : List Object) (places : List Value) (done todo : List ItemForm) (operands later : List Value) → Filled heap places done operands → FilledInOrder heap places todo later → FilledInOrder heap places (back_onto done todo) (reverse (take (length done) operands) ++ later)
in_order heap places [] todo operands later f g = g
in_order heap places (d ∷ done) todo [] later f g = absurd f
in_order heap places (d ∷ done) todo (v ∷ vs) later f g =
    rw (turned v (take (length done) vs) later) (in_order heap places done (d ∷ todo) vs (v ∷ later) f.1 (f.0, g))

back_length : (done todo : List ItemForm) → length (back_onto done todo) ≡ length done + length todo
back_length [] todo = omega arith
back_length (d ∷ done) todo = let h = back_length done (d ∷ todo) in omega (arith, h)

-- Items that break no rule, newest first, break none in order.
keep_in_order : (types : List TypeForm) (spot : Spot) (target : Option PathForm) (holds : Holds) (done todo : List ItemForm) → DoneKeep types spot target holds done → ItemsKeep types spot target holds (named_of done) todo → ItemsKeep types spot target holds [] (back_onto done todo)
keep_in_order types spot target holds [] todo d i = i
keep_in_order types spot target holds (d ∷ done) todo before behind = keep_in_order types spot target holds done (d ∷ todo) before.1 (before.0, behind)

-- What an item moves.

-- A path that an item moves is none that an item before it names, and breaks no rule.
pub kept_by : (target : Option PathForm) (holds : Holds) (earlier : List PathForm) (path : PathForm) → NoneBroken holds (item_move target earlier path ∷ []) → (is_named earlier path ≡ false) × (moved_behind (is_target target path) path.selectors (hold_at holds path.root) path.spot ≡ None)
kept_by target holds earlier path e = go (is_named earlier path) refl (first_kept holds (item_move target earlier path) [] e).0
  where
    go : (b : Bool) → is_named earlier path ≡ b → broken_in no_tracks holds (if b then moves_again path else moves_it (is_target target path) path) ≡ None → (is_named earlier path ≡ false) × (moved_behind (is_target target path) path.selectors (hold_at holds path.root) path.spot ≡ None)
    go true is kept = absurd (cc kept)
    go false is kept = (is, kept)

and_right : (a b : Bool) → (a && b) ≡ true → b ≡ true
and_right true b e = e
and_right false b e = absurd (cc e)

and_left : (a b : Bool) → (a && b) ≡ true → a ≡ true
and_left true b e = refl
and_left false b e = absurd (cc e)

neither : (a b : Bool) → a || b ≡ false → (a ≡ false) × (b ≡ false)
neither true b e = absurd (cc e)
neither false b e = (refl, e)

or_right : (a b : Bool) → b ≡ true → a || b ≡ true
or_right true b e = refl
or_right false b e = e

-- What names an object, and is not blank, is moved out of an owner.
owner_by : (given : Value) (h : Hold) (spot : Spot) (v : Value) (o : Id) → moved_by h spot ≡ None → IsSaid given h v → v ≡ Names o → IsOwn h
owner_by given hold.Null spot v o kept blank is = absurd (cc (blank, is))
owner_by given (hold.Kept r) spot v o kept blank is = tt
owner_by given (hold.Own r) spot v o kept blank is = tt
owner_by given (hold.Alias r) spot v o kept blank is = absurd (cc kept)
owner_by given hold.Lost spot v o kept blank is = absurd (cc kept)

-- An owner is relied on to own.
owns_by : (h : Hold) → IsOwn h → Owns h
owns_by (hold.Kept r) own = tt
owns_by (hold.Own r) own = tt
owns_by h own = absurd own

-- A component is moved only if it is the target.
taken_target : (b : Bool) (h : Hold) (spot : Spot) → taken_by b h spot ≡ None → b ≡ true
taken_target true h spot e = refl
taken_target false hold.Null spot e = absurd (cc e)
taken_target false (hold.Kept r) spot e = absurd (cc e)
taken_target false (hold.Own r) spot e = absurd (cc e)
taken_target false (hold.Alias r) spot e = absurd (cc e)
taken_target false hold.Lost spot e = absurd (cc e)

-- Same paths.
pub selectors_same : (cs : List ℕ) → same_selectors cs cs ≡ true
selectors_same [] = refl
selectors_same (c ∷ cs) = rw (eq-eqb c c refl, selectors_same cs) refl

pub paths_are : (p q : PathForm) → same_path p q ≡ true → (p.root ≡ q.root) × (p.selectors ≡ q.selectors)
paths_are p q e =
    let h = and_parts (p.root == q.root) (same_selectors p.selectors q.selectors) e in
    (eqb-true p.root q.root h.0, selectors_are p.selectors q.selectors h.1)

paths_same : (p q : PathForm) → p.root ≡ q.root → p.selectors ≡ q.selectors → same_path p q ≡ true
paths_same p q root selectors = rw (root, selectors, eq-eqb q.root q.root refl, selectors_same q.selectors) refl

-- What a target is, where there is one.
pub target_is : (target : Option PathForm) (path : PathForm) → is_target target path ≡ true → (t : PathForm) × (target ≡ Some t) × (same_path t path ≡ true)
target_is None path e = absurd (cc e)
target_is (Some t) path e = (t, refl, e)

-- The place of what a path names that is moved: its variable; or, if it is the target, the component that the new object goes to.
abbrev pub IsPlaceOf : (target : Option PathForm) (h : Id) (d : ℕ) (path : PathForm) (place : Place) → Type 0
IsPlaceOf target h d path place = ((path.selectors ≡ []) × (place ≡ variable path.root)) ⊎ ((is_target target path ≡ true) × (place ≡ component h d))

-- Two paths with one place are one.
one_path : (target : Option PathForm) (h : Id) (d : ℕ) (p q : PathForm) (place : Place) → IsPlaceOf target h d p place → IsPlaceOf target h d q place → same_path p q ≡ true
one_path target h d p q place (inl e) (inl f) =
    let same : variable p.root ≡ variable q.root = sym e.1 ∙ f.1 in
    let root : p.root ≡ q.root = cc same in
    paths_same p q root (e.0 ∙ sym f.0)
one_path target h d p q place (inl e) (inr f) = let same : variable p.root ≡ component h d = sym e.1 ∙ f.1 in absurd (cc same)
one_path target h d p q place (inr e) (inl f) = let same : component h d ≡ variable q.root = sym e.1 ∙ f.1 in absurd (cc same)
one_path target h d p q place (inr e) (inr f) =
    let a = target_is target p e.0 in
    let b = target_is target q f.0 in
    let t : a.0 ≡ b.0 = let u = a.1 in let v = b.1 in cc (u, v) in
    let x = paths_are a.0 p a.2 in
    let y = paths_are b.0 q b.2 in
    paths_same p q (sym x.0 ∙ (ap (λ (path : PathForm). path.root) t ∙ y.0)) (sym x.1 ∙ (ap (λ (path : PathForm). path.selectors) t ∙ y.1))

-- An item with one value fills one component.
one_fits : (types : List TypeForm) (variables : List VariableForm) (heap : List Object) (places : List Value) (c : ComponentKind) (cs : List ComponentKind) (item : ItemForm) (items : List ItemForm) (v : Value) → FilledBy heap places item v → items_fit types variables (c ∷ cs) (item ∷ items) ≡ true → (component_item_fits types variables c item ≡ true) × (items_fit types variables cs items ≡ true)
one_fits types variables heap places c cs null_item items v filled fits = (and_left (component_item_fits types variables c null_item) (items_fit types variables cs items) fits, and_right (component_item_fits types variables c null_item) (items_fit types variables cs items) fits)
one_fits types variables heap places c cs (item_of_path path) items v filled fits = (and_left (component_item_fits types variables c (item_of_path path)) (items_fit types variables cs items) fits, and_right (component_item_fits types variables c (item_of_path path)) (items_fit types variables cs items) fits)
one_fits types variables heap places c cs (item_of_value e) items v filled fits = (and_left (component_item_fits types variables c (item_of_value e)) (items_fit types variables cs items) fits, and_right (component_item_fits types variables c (item_of_value e)) (items_fit types variables cs items) fits)
one_fits types variables heap places c cs (item_of_record p) items v filled fits = absurd filled

none_fits : (types : List TypeForm) (variables : List VariableForm) (heap : List Object) (places : List Value) (item : ItemForm) (items : List ItemForm) (v : Value) → FilledBy heap places item v → items_fit types variables [] (item ∷ items) ≡ true → ⊥
none_fits types variables heap places null_item items v filled fits = cc fits
none_fits types variables heap places (item_of_path path) items v filled fits = cc fits
none_fits types variables heap places (item_of_value e) items v filled fits = cc fits
none_fits types variables heap places (item_of_record p) items v filled fits = filled

-- So there are as many as components.
as_many : (types : List TypeForm) (variables : List VariableForm) (heap : List Object) (places : List Value) (cs : List ComponentKind) (items : List ItemForm) (vs : List Value) → FilledInOrder heap places items vs → items_fit types variables cs items ≡ true → length items ≡ length cs
as_many types variables heap places [] [] vs filled fits = refl
as_many types variables heap places (c ∷ cs) [] vs filled fits = absurd (cc fits)
as_many types variables heap places cs (item ∷ items) [] filled fits = absurd filled
as_many types variables heap places [] (item ∷ items) (v ∷ vs) filled fits = absurd (none_fits types variables heap places item items v filled.0 fits)
as_many types variables heap places (c ∷ cs) (item ∷ items) (v ∷ vs) filled fits =
    ap suc (as_many types variables heap places cs items vs filled.1 (one_fits types variables heap places c cs item items v filled.0 fits).1)

pub filled_length : (types : List TypeForm) (variables : List VariableForm) (heap : List Object) (places : List Value) (components : List ComponentKind) (done : List ItemForm) (operands : List Value) → Filled heap places done operands → items_fit types variables components (back_onto done []) ≡ true → length (back_onto done []) ≡ length components
filled_length types variables heap places components done operands filled fits =
    as_many types variables heap places components (back_onto done []) (reverse (take (length done) operands) ++ []) (in_order heap places done [] operands [] filled tt) fits

-- What is relied on while a new object is made, once its items are moved: no more than before; nothing of the variables that are moved; and where an
-- item is the target, the component that it leads to is the one that the object goes to, on which nothing relies.
pub record Lends (outer : Outsiders) (heap : List Object) (places : List Value) (holds : Holds) (target : Option PathForm) (xs : List ℕ) (after : Place → Hold) : Type 0 where
  pub h : Id
  pub d : ℕ
  pub worse : (q : Place) → Owns (after q) → Owns (hold_in outer none_spared holds q)
  pub moved_gone : (x : ℕ) → is_one_of xs x ≡ true → Owns (after (variable x)) → ⊥
  pub lent_gone : (path : PathForm) → is_target target path ≡ true → Owns (after (component h d)) → ⊥
  pub leads : (path : PathForm) (v : Value) (o : Id) → is_target target path ≡ true → path.selectors ≢ [] → walk heap (begun places path) (along places path) ≡ finds v → v ≡ Names o
      → value_at heap (stacked places outer) (component h d) ≡ Names o

-- An item whose value names an object moves the place that its path names, which owns the object.
pub record Moves (outer : Outsiders) (heap : List Object) (places : List Value) (holds : Holds) (target : Option PathForm) (h : Id) (d : ℕ) (earlier named : List PathForm) (moved : List ℕ) (o : Id) : Type 0 where
  pub path : PathForm
  pub place : Place
  pub is : named ≡ path ∷ []
  pub once : is_named earlier path ≡ false
  pub is_place : IsPlaceOf target h d path place
  pub own : Owns (hold_in outer none_spared holds place)
  pub names : value_at heap (stacked places outer) place ≡ Names o
  pub of_moved : (x : ℕ) → place ≡ variable x → moved ≡ x ∷ []

-- What is among numbers, and among paths.
pub first_one : (x : ℕ) (xs : List ℕ) → is_one_of (x ∷ xs) x ≡ true
first_one x xs = rw (eq-eqb x x refl) refl

pub later_one : (xs ys : List ℕ) (x : ℕ) → is_one_of ys x ≡ true → is_one_of (xs ++ ys) x ≡ true
later_one [] ys x e = e
later_one (y ∷ xs) ys x e = or_right (y == x) (is_one_of (xs ++ ys) x) (later_one xs ys x e)

named_parts : (ps qs : List PathForm) (path : PathForm) → is_named (ps ++ qs) path ≡ false → (is_named ps path ≡ false) × (is_named qs path ≡ false)
named_parts [] qs path e = (refl, e)
named_parts (p ∷ ps) qs path e =
    let two = neither (same_path p path) (is_named (ps ++ qs) path) e in
    let rest = named_parts ps qs path two.1 in
    (rw (two.0, rest.0) refl, rest.1)

named_twice : (named : List PathForm) (p q : PathForm) → named ≡ p ∷ [] → same_path p q ≡ true → is_named named q ≡ false → ⊥
named_twice named p q is same once = let one : is_named (p ∷ []) q ≡ true = rw same refl in cc (is, one, once)

module _ (types : List TypeForm) (variables : List VariableForm) (outer : Outsiders) (heap : List Object) (places : List Value) (holds : Holds) (spot : Spot) (target : Option PathForm) (xs : List ℕ) (after : Place → Hold) (fit : Fit types variables outer none_spared heap places holds) (lends : Lends outer heap places holds target xs after) where
  path_moves : (earlier : List PathForm) (path : PathForm) (cs : List ℕ) (v : Value) (o : Id) → path.selectors ≡ cs → is_named earlier path ≡ false → moved_behind (is_target target path) cs (hold_at holds path.root) path.spot ≡ None → (path.selectors ≡ [] → is_object variables path.root ≡ false) → walk heap (begun places path) (selected named (place_at places path.root) cs) ≡ finds v → v ≡ Names o → Moves outer heap places holds target lends.h lends.d earlier (path ∷ []) (variable_of cs path.root) o
  path_moves earlier path [] v o whole once kept none is names =
      let here : begun places path ≡ v = cc is in
      let plain = plain_object path.root (moved_some (hold_at holds path.root) path.spot kept) (none whole) fit in
      let same : place_at places path.root ≡ v = sym (plain_whole (place_at places path.root) plain) ∙ here in
      let held : place_at places path.root ≡ Names o = same ∙ names in
      record {
        path = path;
        place = variable path.root;
        is = refl;
        once = once;
        is_place = inl (whole, refl);
        own = owns_by (hold_at holds path.root) (owner_by (place_at outer.given path.root) (hold_at holds path.root) path.spot (place_at places path.root) o kept (fit.said path.root) held);
        names = held;
        of_moved = λ x e. let same : path.root ≡ x = cc e in ap (λ (y : ℕ). y ∷ []) same;
      }
  path_moves earlier path (c ∷ cs) v o whole once kept none is names =
      let one = taken_target (is_target target path) (hold_at holds path.root) path.spot kept in
      record {
        path = path;
        place = component lends.h lends.d;
        is = refl;
        once = once;
        is_place = inr (one, refl);
        own = tt;
        names = lends.leads path v o one (λ e. let none : c ∷ cs ≡ [] = sym whole ∙ e in cc none) (rw whole is) names;
        of_moved = λ x e. absurd (cc e);
      }

  item_moves : (earlier : List PathForm) (kind : ComponentKind) (item : ItemForm) (v : Value) (o : Id) → component_item_fits types variables kind item ≡ true → NoneBroken holds (uses_in_item types spot target earlier item) → FilledBy heap places item v → HasKind types (cells_of heap) (held_kind kind) v → v ≡ Names o → Moves outer heap places holds target lends.h lends.d earlier (named_by_item item) (moved_by_item no_tracks item) o
  item_moves earlier kind null_item v o fits keep is has names = absurd (cc (is, names))
  item_moves earlier (component_kinds.Integer initial) (item_of_value e) v o fits keep is has names = absurd (rw names at has)
  item_moves earlier (component_kinds.Boolean initial) (item_of_value e) v o fits keep is has names = absurd (rw names at has)
  item_moves earlier (component_kinds.Access access) (item_of_value e) v o fits keep is has names = absurd (cc fits)
  item_moves earlier (component_kinds.Integer initial) (item_of_path path) v o fits keep is has names = absurd (cc fits)
  item_moves earlier (component_kinds.Boolean initial) (item_of_path path) v o fits keep is has names = absurd (cc fits)
  item_moves earlier (component_kinds.Access access) (item_of_path path) v o fits keep is has names =
      let kept = kept_by target holds earlier path keep in
      path_moves earlier path path.selectors v o refl kept.0 kept.1 (λ none. value_root types variables path access.0 none (this_is access.0 (path_access types variables path) fits)) is names
  item_moves earlier kind (item_of_record p) v o fits keep is has names = absurd is

  -- A later value that names an object is that of a place which no earlier item names.
  pub record IsMoved (earlier : List PathForm) (o : Id) : Type 0 where
    pub path : PathForm
    pub place : Place
    pub once : is_named earlier path ≡ false
    pub is_place : IsPlaceOf target lends.h lends.d path place
    pub own : Owns (hold_in outer none_spared holds place)
    pub names : value_at heap (stacked places outer) place ≡ Names o

  one_moved : {earlier named : List PathForm} {moved : List ℕ} {o : Id} → Moves outer heap places holds target lends.h lends.d earlier named moved o → IsMoved earlier o
  one_moved m = record { path = m.path; place = m.place; once = m.once; is_place = m.is_place; own = m.own; names = m.names }

  later_moved : (cs : List ComponentKind) (items : List ItemForm) (vs : List Value) (earlier : List PathForm) → items_fit types variables cs items ≡ true → ItemsKeep types spot target holds earlier items → FilledInOrder heap places items vs → HaveKinds types (cells_of heap) cs vs → (i : ℕ) (o : Id) → slice_index_or vs i Null ≡ Names o → IsMoved earlier o
  later_moved cs items [] earlier fits keep filled kinds i o e = absurd (cc e)
  later_moved [] items (v ∷ vs) earlier fits keep filled kinds i o e = absurd kinds
  later_moved (c ∷ cs) [] (v ∷ vs) earlier fits keep filled kinds i o e = absurd (cc fits)
  later_moved (c ∷ cs) (item ∷ items) (v ∷ vs) earlier fits keep filled kinds zero o e =
      one_moved (item_moves earlier c item v o (one_fits types variables heap places c cs item items v filled.0 fits).0 keep.0 filled.0 kinds.0 e)
  later_moved (c ∷ cs) (item ∷ items) (v ∷ vs) earlier fits keep filled kinds (suc i) o e =
      let m = later_moved cs items vs (named_by_item item ++ earlier) (one_fits types variables heap places c cs item items v filled.0 fits).1 keep.1 filled.1 kinds.1 i o e in
      record { path = m.path; place = m.place; once = (named_parts (named_by_item item) earlier m.path m.once).1; is_place = m.is_place; own = m.own; names = m.names }

  -- Once the places are lost, the value of an item is in hand.
  moved_in_hand : (kind : Option ℕ) (v : Value) → ((o : Id) → v ≡ Names o → IsOf (access_at heap) kind o) → ((o : Id) → v ≡ Names o → (place : Place) × Owns (hold_in outer none_spared holds place) × (value_at heap (stacked places outer) place ≡ Names o) × (Owns (after place) → ⊥)) → IsInHand heap (stacked places outer) after kind v
  moved_in_hand kind v right moved = record {
    hand = record {
      right = right;
      free = λ o e q own at_q.
          let m = moved o e in
          let same = fit.owners.fit.apart q m.0 o (lends.worse q own) m.1 at_q m.2 in
          m.3 (rw same at own);
    };
  }

  place_gone : (path : PathForm) (place : Place) → IsPlaceOf target lends.h lends.d path place → ((x : ℕ) → place ≡ variable x → is_one_of xs x ≡ true) → Owns (after place) → ⊥
  place_gone path place (inl e) among own = lends.moved_gone path.root (among path.root e.1) (rw (e.1) at own)
  place_gone path place (inr e) among own = lends.lent_gone path e.0 (rw (e.1) at own)

  -- Of an owner's object the access type is the one that typing says.
  right_kind : (kind : Option ℕ) (k : VariableKind) (o : Id) → IsOf (access_at heap) kind o → HasKind types (cells_of heap) k (Names o) → IsOf (access_at heap) (access_of (Some k)) o
  right_kind None k o of has = absurd of
  right_kind (Some t) k o of has =
      let there = present_at heap o t of in
      let same : access_of (Some k) ≡ Some there.object.cell.access = kind_names types heap k o there.object has there.found in
      rw (same, there.found, there.there) refl

  -- All values of items are, from one component on.
  items_in_hand : (kind : ℕ → Option ℕ) (c : ℕ) (cs : List ComponentKind) (items : List ItemForm) (vs : List Value) (earlier : List PathForm) → ((n : ℕ) → kind (n + c) ≡ access_of (component_kind (slice_get cs n))) → ((x : ℕ) → is_one_of (moved_by_items no_tracks items) x ≡ true → is_one_of xs x ≡ true) → items_fit types variables cs items ≡ true → ItemsKeep types spot target holds earlier items → FilledInOrder heap places items vs → HaveKinds types (cells_of heap) cs vs → AreInHand heap (stacked places outer) after kind c vs
  items_in_hand kind c cs items [] earlier kinds_are among fits keep filled kinds = tt
  items_in_hand kind c [] items (v ∷ vs) earlier kinds_are among fits keep filled kinds = absurd kinds
  items_in_hand kind c (f ∷ cs) [] (v ∷ vs) earlier kinds_are among fits keep filled kinds = absurd (cc fits)
  items_in_hand kind c (f ∷ cs) (item ∷ items) (v ∷ vs) earlier kinds_are among fits keep filled kinds =
      let one = one_fits types variables heap places f cs item items v filled.0 fits in
      let here = one.0 in
      let behind = one.1 in
      (moved_in_hand (kind c) v (λ o e. right here o e) (λ o e. moved here o e), not_again here behind, items_in_hand kind (suc c) cs items vs (named_by_item item ++ earlier) (λ n. shifted n) (λ x e. among x (later_one (moved_by_item no_tracks item) (moved_by_items no_tracks items) x e)) behind keep.1 filled.1 kinds.1)
    where
      at_c : kind c ≡ access_of (Some (held_kind f))
      at_c = let first : c ≡ 0 + c = omega arith in ap kind first ∙ kinds_are 0

      right : component_item_fits types variables f item ≡ true → (o : Id) → v ≡ Names o → IsOf (access_at heap) (kind c) o
      right here o e =
          let m = item_moves earlier f item v o here keep.0 filled.0 kinds.0 e in
          rw at_c (right_kind (kind_of (kinds_of types variables outer) (access_at heap) m.place) (held_kind f) o (kernel.owned_at fit.owners.fit m.place m.own o m.names) (rw e at kinds.0))

      moved : component_item_fits types variables f item ≡ true → (o : Id) → v ≡ Names o → (place : Place) × Owns (hold_in outer none_spared holds place) × (value_at heap (stacked places outer) place ≡ Names o) × (Owns (after place) → ⊥)
      moved here o e =
          let m = item_moves earlier f item v o here keep.0 filled.0 kinds.0 e in
          (m.place, m.own, m.names, place_gone m.path m.place m.is_place (λ x is. among x (rw (m.of_moved x is) (first_one x (moved_by_items no_tracks items)))))

      not_again : component_item_fits types variables f item ≡ true → items_fit types variables cs items ≡ true → IsNotAmong v vs
      not_again here behind o i e n =
          let m = item_moves earlier f item v o here keep.0 filled.0 kinds.0 e in
          let l = later_moved cs items vs (named_by_item item ++ earlier) behind keep.1 filled.1 kinds.1 i o n in
          let one_place = fit.owners.fit.apart m.place l.place o m.own l.own m.names l.names in
          let same = one_path target lends.h lends.d m.path l.path m.place m.is_place (rw one_place l.is_place) in
          let once = (named_parts (named_by_item item) earlier l.path l.once).0 in
          named_twice (named_by_item item) m.path l.path m.is same once

      shifted : (n : ℕ) → kind (n + suc c) ≡ access_of (component_kind (slice_get cs n))
      shifted n = let e : n + suc c ≡ suc n + c = omega arith in ap kind e ∙ kinds_are (suc n)

  -- The newest operands, in order, are in hand.
  pub filled_in_hand : (access : ℕ) (components : List ComponentKind) (done : List ItemForm) (operands : List Value) → ((x : ℕ) → is_one_of (moved_by_items no_tracks (back_onto done [])) x ≡ true → is_one_of xs x ≡ true) → reached_components types access ≡ Some components → items_fit types variables components (back_onto done []) ≡ true → DoneKeep types spot target holds done → Filled heap places done operands → HaveKinds types (cells_of heap) components (reverse (take (length (back_onto done [])) operands)) → AreInHand heap (stacked places outer) after (λ c. access_of (kind_among (reached_components types access) c)) 0 (reverse (take (length (back_onto done [])) operands))
  filled_in_hand access components done operands among reached fits keep filled kinds =
      let all = back_onto done [] in
      let counted : length all ≡ length done = let h = back_length done [] in omega (arith, h) in
      let order : FilledInOrder heap places all (reverse (take (length all) operands)) =
      rw (counted, ← append-nil (reverse (take (length done) operands))) (in_order heap places done [] operands [] filled tt) in
      items_in_hand (λ c. access_of (kind_among (reached_components types access) c)) 0 components all (reverse (take (length all) operands)) []
      (λ n. let same : n + 0 ≡ n = omega arith in rw (reached, same) refl) among fits (keep_in_order types spot target holds done [] keep tt) order kinds
