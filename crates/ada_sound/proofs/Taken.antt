-- Values that are moved: what flow and typing say of them, and what objects are then.

use Rattle.std.proofs.Common.{◌≡◌, ◌≢◌, ℕ, Bool, true, false, ◌==◌, ◌||◌, List, [], ◌∷◌, ◌++◌, refl, sym, ap, ◌∙◌, ◌⊎◌, inl, inr}
use Rattle.std.proofs.lemmas.Bool.{and_parts, eqb-true}
use Rattle.std.specs.Prelude.{Option, Some, None}
use Rattle.std.specs.List.{slice_get, slice_set}
use Rattle.ada_program.specs.declared.program.Exception.{Exception}
use Rattle.ada_program.specs.declared.program.Exception.TheVariants.{ConstraintError}
use Rattle.ada_program.specs.declared.program.VariableKind.{VariableKind}
use Rattle.ada_program.specs.declared.program.VariableKind.TheVariants as held
use Rattle.ada_program.specs.Form.{PathForm, value_of}
use Rattle.ada_program.specs.ProgramForm.{TypeForm, VariableForm, ProgramForm}
use Rattle.ada_text.specs.declared.spot.Spot.{Spot}
use Rattle.ada_program.specs.WellFormed.{access_of, selectors_kind, variable_kind, path_access, kind_takes, is_borrower, value_access, path_kind}
use Rattle.ada_effects.specs.Effects.{follows_value, path_raises}
use Rattle.ada_flow.specs.declared.rule.Hold.{Hold}
use Rattle.ada_flow.specs.declared.rule.Hold.TheVariants as hold
use Rattle.ada_flow.specs.Flow.{Holds, hold_at, variable_access, uses_in_target, moves_it, left_by_move, gives_component, moved_behind, moved_by, taken_by, lost_by, without_values, variable_of, value_hold, borrows_it, borrowed_hold, ends_with, gives, same_selectors, touched_hold}
use Rattle.ada_flow.specs.Tracking.{no_tracks}
use Rattle.ada_meaning.specs.declared.state.Id.{Id}
use Rattle.ada_meaning.specs.declared.state.Value.{Value}
use Rattle.ada_meaning.specs.declared.state.Value.TheVariants.{Null, Names}
use Rattle.ada_meaning.specs.declared.state.Stage.TheVariants.{Existing}
use Rattle.ada_meaning.specs.Frame.{Stores, StoresIn, Declares}
use Rattle.ada_meaning.specs.State.{Master}
use Rattle.ada_meaning.specs.Named.{Object, object_at, named, store, changed, filled}
use Rattle.ada_owners.specs.Reliance.{IsOf}
use Rattle.ada_owners.specs.Keeping.{IsThere}
use Rattle.ada_owners.specs.Places.{is_there, access_at}
use Rattle.ada_owners.proofs.Objects.{present_at}
use Rattle.ada_owners.specs.Walks.{walk}
use Rattle.ada_typed.specs.Holding.{cells_of}
use Rattle.ada_typed.proofs.Values.{OperandKind, of_kind}
use Rattle.ada_typed.proofs.Control as typed
use Rattle.ada_sound.proofs.Objects.{set_here, set_other}
use Rattle.ada_sound.proofs.Values.{same_or_not}
use Rattle.ada_sound.proofs.Stored.{Stored, stored_filled}
use Rattle.ada_sound.proofs.Fits.{Outsiders, Fit, component_access, names_object, is_object, null_object, plain_object, none_spared, place_at, null_fit, lose, put_null, put_alias, root_names, hand_of, move_fit, store_blank, store_owner}
use Rattle.ada_sound.proofs.Invariant.{Known, Control, Rooms, MayRaise, assignment_among, component_among, Goes, Raised, RunsOn, Takes, Working, ways}
use Rattle.ada_sound.proofs.Outcomes.{using_goes, ends_goes}
use Rattle.ada_sound.proofs.Followings.{first_kept, kept_apart}
use Rattle.ada_sound.proofs.Raising.{or_left, or_right}
use Rattle.ada_sound.proofs.Assigned.{value_goes, kind_names, selected_of, leads_from}

-- What typing says of a variable and of a component that a value goes to.
pub variable_goes : (p : ProgramForm) (heap : List Object) (kind : VariableKind) (kinds : List OperandKind) (x : ℕ) (k : Control) → typed.Fits p (cells_of heap) (of_kind kind ∷ kinds) (Stores x ∷ k) → variable_access p.variables x ≡ access_of (Some kind)
variable_goes p heap kind kinds x k (ks, other, same, is, more) = let one : kind ≡ other = cc same in ap access_of is ∙ ap (λ q. access_of (Some q)) (sym one)

pub declared_goes : (p : ProgramForm) (heap : List Object) (kind : VariableKind) (kinds : List OperandKind) (x : ℕ) (k : Control) → typed.Fits p (cells_of heap) (of_kind kind ∷ kinds) (Declares x ∷ k) → variable_access p.variables x ≡ access_of (Some kind)
declared_goes p heap kind kinds x k (ks, other, same, is, more) = let one : kind ≡ other = cc same in ap access_of is ∙ ap (λ q. access_of (Some q)) (sym one)

pub component_goes : (p : ProgramForm) (heap : List Object) (kind : VariableKind) (kinds : List OperandKind) (o : Id) (object : Object) (c : ℕ) (k : Control) → object_at heap o ≡ Some object → typed.Fits p (cells_of heap) (of_kind kind ∷ kinds) (StoresIn (Names o) c ∷ k) → component_access p.types object c ≡ access_of (Some kind)
component_goes p heap kind kinds o object c k found (ks, access, other, same, named, has, leads, more) =
    let one : kind ≡ other = cc same in
    selected_of p.types (Some (held.Access access)) object c other (kind_names p.types heap (held.Access access) o object has found) leads ∙ ap (λ q. access_of (Some q)) (sym one)

-- A variable that a value goes to that no record object is, is none either.
pub variable_none : (p : ProgramForm) (heap : List Object) (kind : VariableKind) (kinds : List OperandKind) (x : ℕ) (k : Control) → names_object (Some kind) ≡ false → typed.Fits p (cells_of heap) (of_kind kind ∷ kinds) (Stores x ∷ k) → is_object p.variables x ≡ false
variable_none p heap kind kinds x k none (ks, other, same, is, more) = let one : kind ≡ other = cc same in ap names_object is ∙ (ap (λ q. names_object (Some q)) (sym one) ∙ none)

pub declared_none : (p : ProgramForm) (heap : List Object) (kind : VariableKind) (kinds : List OperandKind) (x : ℕ) (k : Control) → names_object (Some kind) ≡ false → typed.Fits p (cells_of heap) (of_kind kind ∷ kinds) (Declares x ∷ k) → is_object p.variables x ≡ false
declared_none p heap kind kinds x k none (ks, other, same, is, more) = let one : kind ≡ other = cc same in ap names_object is ∙ (ap (λ q. names_object (Some q)) (sym one) ∙ none)

-- A path by its parts.
abbrev pub at_path : (of_record : Bool) → (root : ℕ) → List ℕ → Spot → PathForm
at_path whole root cs spot = record { root = root; of_record = whole; selectors = cs; spot = spot }

-- A variable is moved to another, or into a component.
module _ {types : List TypeForm} {variables : List VariableForm} {outer : Outsiders} {heap : List Object} {places : List Value} {holds : Holds} (f : Fit types variables outer none_spared heap places holds) (y : ℕ) (spot : Spot) where
  pub null_place : hold_at holds y ≡ hold.Null → place_at places y ≡ Null
  null_place is = rw is at (f.said y)

  pub move_by : (x : ℕ) (h : Hold) → is_object variables x ≡ false → is_object variables y ≡ false → hold_at holds y ≡ h → variable_access variables x ≡ variable_access variables y → moved_by h spot ≡ None → Fit types variables outer none_spared heap (slice_set places x (place_at places y)) (slice_set (slice_set holds y (left_by_move h)) x (touched_hold h))
  move_by x hold.Null none other is same kept = let null = null_place is in rw null (put_null x none (null_fit y (null_object y (λ lost. cc (lost, is)) null f) null f))
  move_by x (hold.Kept r) none other is same kept = move_fit x y r none other (rw is tt) same f
  move_by x (hold.Own r) none other is same kept = move_fit x y r none other (rw is tt) same f
  move_by x (hold.Alias r) none other is same kept = absurd (cc kept)
  move_by x hold.Lost none other is same kept = absurd (cc kept)

  pub store_by : (o : Id) (object : Object) (c : ℕ) (h : Hold) → hold_at holds y ≡ h → object_at heap o ≡ Some object → is_there object.stage ≡ true → component_access types object c ≡ variable_access variables y → moved_by h spot ≡ None → Fit types variables outer none_spared (store heap (Names o) c (place_at places y)) places (slice_set holds y (left_by_move h))
  store_by o object c hold.Null is found listed same kept = let null = null_place is in rw null (store_blank o object c Null found (λ p e. cc e) (null_fit y (null_object y (λ lost. cc (lost, is)) null f) null f))
  store_by o object c (hold.Kept r) is found listed same kept = store_owner o object c (place_at places y) found listed (rw same (hand_of y (rw is tt) f)) (lose y f)
  store_by o object c (hold.Own r) is found listed same kept = store_owner o object c (place_at places y) found listed (rw same (hand_of y (rw is tt) f)) (lose y f)
  store_by o object c (hold.Alias r) is found listed same kept = absurd (cc kept)
  store_by o object c hold.Lost is found listed same kept = absurd (cc kept)

  some_hold : (h : Hold) (at : Spot) → lost_by h at ≡ None → h ≢ hold.Lost
  some_hold h at kept lost = cc (rw lost at kept)

  -- What a variable names that is not lost may be lent to a borrower; so may what a component of an object in its collection names.
  pub borrow_by : (x : ℕ) (h : Hold) → is_object variables x ≡ false → is_object variables y ≡ false → hold_at holds y ≡ h → variable_access variables x ≡ variable_access variables y → lost_by h spot ≡ None → Fit types variables outer none_spared heap (slice_set places x (place_at places y)) (slice_set holds x (borrowed_hold h))
  borrow_by x hold.Null none other is same kept = let null = null_place is in rw null (put_null x none f)
  borrow_by x (hold.Kept r) none other is same kept = put_alias x (place_at places y) r none (plain_object y (some_hold (hold_at holds y) spot (rw is kept)) other f) (rw same (root_names y spot (rw is kept) f)) f
  borrow_by x (hold.Own r) none other is same kept = put_alias x (place_at places y) r none (plain_object y (some_hold (hold_at holds y) spot (rw is kept)) other f) (rw same (root_names y spot (rw is kept) f)) f
  borrow_by x (hold.Alias r) none other is same kept = put_alias x (place_at places y) r none (plain_object y (some_hold (hold_at holds y) spot (rw is kept)) other f) (rw same (root_names y spot (rw is kept) f)) f
  borrow_by x hold.Lost none other is same kept = absurd (cc kept)

-- What flow says where a path is moved to a variable, or into a component.
pub value_gives : (types : List TypeForm) (variables : List VariableForm) (here : Spot) (cleared : Bool) (x : ℕ) (whole : Bool) (root : ℕ) (cs : List ℕ) (spot : Spot) (holds : Holds) (more raised : Holds → Type 0) → is_borrower variables x ≡ false → Goes (gives types variables no_tracks here cleared x (value_of (at_path whole root cs spot)) holds) more raised → (moved_behind cleared cs (hold_at holds root) spot ≡ None) × more (slice_set (without_values (variable_of cs root) holds) x (value_hold cs (hold_at holds root))) × (follows_value whole cs ≡ true → raised holds)
value_gives types variables here cleared x whole root cs spot holds more raised owned g =
    let after = slice_set (without_values (variable_of cs root) holds) x (value_hold cs (hold_at holds root)) in
    let u = using_goes (moves_it cleared (at_path whole root cs spot) ∷ []) holds (ends_with (follows_value whole cs) holds after) more raised (rw owned at g) in
    let e = ends_goes (follows_value whole cs) holds after more raised u.1 in
    ((first_kept holds (moves_it cleared (at_path whole root cs spot)) [] u.0).0, e.0, e.1)

-- What flow says where a path's value is lent to a borrower.
pub borrow_gives : (types : List TypeForm) (variables : List VariableForm) (here : Spot) (cleared : Bool) (x : ℕ) (whole : Bool) (root : ℕ) (cs : List ℕ) (spot : Spot) (holds : Holds) (more raised : Holds → Type 0) → is_borrower variables x ≡ true → Goes (gives types variables no_tracks here cleared x (value_of (at_path whole root cs spot)) holds) more raised → (lost_by (hold_at holds root) spot ≡ None) × more (slice_set holds x (borrowed_hold (hold_at holds root))) × (follows_value whole cs ≡ true → raised holds)
borrow_gives types variables here cleared x whole root cs spot holds more raised lent g =
    let after = slice_set holds x (borrowed_hold (hold_at holds root)) in
    let u = using_goes (borrows_it (at_path whole root cs spot) ∷ []) holds (ends_with (follows_value whole cs) holds after) more raised (rw lent at g) in
    let e = ends_goes (follows_value whole cs) holds after more raised u.1 in
    ((first_kept holds (borrows_it (at_path whole root cs spot)) [] u.0).0, e.0, e.1)

pub value_fills : (types : List TypeForm) (cleared : Bool) (target : PathForm) (whole : Bool) (root : ℕ) (cs : List ℕ) (spot : Spot) (holds : Holds) (more raised : Holds → Type 0) → Goes (gives_component types no_tracks cleared target (value_of (at_path whole root cs spot)) holds) more raised → (moved_behind cleared cs (hold_at holds root) spot ≡ None) × more (without_values (variable_of cs root) holds) × (follows_value whole cs ≡ true → raised holds)
value_fills types cleared target whole root cs spot holds more raised g =
    let after = without_values (variable_of cs root) holds in
    let may = path_raises target || follows_value whole cs in
    let moves = moves_it cleared (at_path whole root cs spot) ∷ [] in
    let u = using_goes (uses_in_target target ++ moves) holds (ends_with may holds after) more raised g in
    let e = ends_goes may holds after more raised u.1 in
    let later = (kept_apart holds (uses_in_target target) moves u.0).1 in
    ((first_kept holds (moves_it cleared (at_path whole root cs spot)) [] later).0, e.0, (λ follows. e.1 (or_right (path_raises target) (follows_value whole cs) follows)))

-- A component is moved only where the next statement clears it, and behind a value that is not lost.
pub cleared_is : (cleared : Bool) (h : Hold) (spot : Spot) → taken_by cleared h spot ≡ None → (cleared ≡ true) × (lost_by h spot ≡ None)
cleared_is true h spot kept = (refl, kept)
cleared_is false hold.Null spot kept = absurd (cc kept)
cleared_is false (hold.Kept r) spot kept = absurd (cc kept)
cleared_is false (hold.Own r) spot kept = absurd (cc kept)
cleared_is false (hold.Alias r) spot kept = absurd (cc kept)
cleared_is false hold.Lost spot kept = absurd (cc kept)

-- Objects stay stored where a component is written.
pub stored_after : {under : List Id} {ms : List Master} (heap : List Object) (o : Id) (c : ℕ) (v : Value) → Stored under heap ms → Stored under (store heap (Names o) c v) ms
stored_after {under} {ms} heap o c v s = go (object_at heap o) refl
  where
    go : (t : Option Object) → object_at heap o ≡ t → Stored under (changed (filled c v) t heap o) ms
    go None is = s
    go (Some x) is = stored_filled o x c v is s

pub there_after : (heap : List Object) (o p : Id) (c : ℕ) (v : Value) → IsThere heap p → IsThere (store heap (Names o) c v) p
there_after heap o p c v there = go (object_at heap o) refl
  where
    at : (x : Object) → object_at heap o ≡ Some x → (p.0 ≡ o.0) ⊎ (p.0 ≢ o.0) → IsThere (slice_set heap o.0 (filled c v x)) p
    at x is (inl same) =
        let here : p ≡ o = ap (λ n. record { 0 = n }) same in
        let found : object_at heap o ≡ Some there.0 = rw (← here) there.1 in
        let one : there.0 ≡ x = cc (found, is) in
        (filled c v x, rw here (set_here heap o.0 x (filled c v x) is), rw (← one) there.2)
    at x is (inr ne) = (there.0, rw (set_other heap o.0 p.0 (filled c v x) ne) there.1, there.2)

    go : (t : Option Object) → object_at heap o ≡ t → IsThere (changed (filled c v) t heap o) p
    go None is = there
    go (Some x) is = at x is (same_or_not p.0 o.0)

-- Two paths that are called one have the same root and the same selectors.
pub selectors_are : (cs ds : List ℕ) → same_selectors cs ds ≡ true → cs ≡ ds
selectors_are [] [] e = refl
selectors_are [] (d ∷ ds) e = absurd (cc e)
selectors_are (c ∷ cs) [] e = absurd (cc e)
selectors_are (c ∷ cs) (d ∷ ds) e =
    let h = and_parts (c == d) (same_selectors cs ds) e in
    let one : c ≡ d = eqb-true c d h.0 in
    let rest : cs ≡ ds = selectors_are cs ds h.1 in
    cc (one, rest)

-- A walk goes on from a component's value.
pub walk_on : (heap : List Object) (o : Id) (object : Object) (c : ℕ) (cs : List ℕ) (v : Value) → object_at heap o ≡ Some object → object.stage ≡ Existing → slice_get object.cell.values c ≡ Some v → walk heap (Names o) (c ∷ cs) ≡ walk heap v cs
walk_on heap o object c cs v found exists at = rw (found, exists, at) refl

-- Where a component is moved, or lent, its path begins at a value that is not lost, and Constraint_Error is known where the path may raise it.
kept_by : (types : List TypeForm) (variables : List VariableForm) (here : Spot) (cleared : Bool) (x : ℕ) (whole : Bool) (root c : ℕ) (cs : List ℕ) (spot : Spot) (holds : Holds) (more raised : Holds → Type 0) → Goes (gives types variables no_tracks here cleared x (value_of (at_path whole root (c ∷ cs) spot)) holds) more raised → (lost_by (hold_at holds root) spot ≡ None) × (follows_value whole (c ∷ cs) ≡ true → raised holds)
kept_by types variables here cleared x whole root c cs spot holds more raised g = go (is_borrower variables x) refl
  where
    go : (b : Bool) → is_borrower variables x ≡ b → (lost_by (hold_at holds root) spot ≡ None) × (follows_value whole (c ∷ cs) ≡ true → raised holds)
    go true is = let h = borrow_gives types variables here cleared x whole root (c ∷ cs) spot holds more raised is g in (h.0, h.2)
    go false is =
        let h = value_gives types variables here cleared x whole root (c ∷ cs) spot holds more raised is g in
        ((cleared_is cleared (hold_at holds root) spot h.0).1, h.2)

raised_here : (known : Known) (k : Control) (rooms : Rooms) (holds : Holds) (whole : Bool) (cs : List ℕ) (among : Exception → Bool) → ((follows_value whole cs ≡ true) → Raised among (ways known k rooms) holds) → (follows_value whole cs ≡ true → among ConstraintError ≡ true) → MayRaise known (follows_value whole cs) ConstraintError k rooms holds
raised_here known k rooms holds whole cs among r is may = r may ConstraintError (is may)

pub kept_root : (known : Known) (k : Control) (heap : List Object) (places : List Value) (ms : List Master) (whole : Bool) (root c : ℕ) (cs : List ℕ) (spot : Spot) → (w : Working known heap places ms (Takes known heap places (value_of (at_path whole root (c ∷ cs) spot)) k)) → (lost_by (hold_at w.holds root) spot ≡ None) × MayRaise known (follows_value whole (c ∷ cs)) ConstraintError k w.rooms w.holds
kept_root known [] heap places ms whole root c cs spot w = absurd (w.rest)
kept_root known (Stores x ∷ k) heap places ms whole root c cs spot w =
    let among = assignment_among known (value_of (at_path whole root (c ∷ cs) spot)) in
    let h = kept_by known.program.types known.program.variables w.rest.1.0 w.rest.0 x whole root c cs spot w.holds (RunsOn known k w.rooms) (Raised among (ways known k w.rooms)) w.rest.1.1 in
    (h.0, raised_here known k w.rooms w.holds whole (c ∷ cs) among h.1 (λ may. or_left (follows_value whole (c ∷ cs)) false may))
kept_root known (Declares x ∷ k) heap places ms whole root c cs spot w =
    let among = assignment_among known (value_of (at_path whole root (c ∷ cs) spot)) in
    let h = kept_by known.program.types known.program.variables w.rest.2.0 w.rest.1 x whole root c cs spot w.holds (RunsOn known k w.rooms) (Raised among (ways known k w.rooms)) w.rest.2.1 in
    (h.0, raised_here known k w.rooms w.holds whole (c ∷ cs) among h.1 (λ may. or_left (follows_value whole (c ∷ cs)) false may))
kept_root known (StoresIn o d ∷ k) heap places ms whole root c cs spot w =
    let g = w.rest.1 in
    let among = component_among known (path_raises g.0) (value_of (at_path whole root (c ∷ cs) spot)) in
    let h = value_fills known.program.types g.1 g.0 whole root (c ∷ cs) spot w.holds (RunsOn known k w.rooms) (Raised among (ways known k w.rooms)) g.2 in
    ((cleared_is g.1 (hold_at w.holds root) spot h.0).1, raised_here known k w.rooms w.holds whole (c ∷ cs) among h.2 (λ may. or_left (path_raises g.0 || follows_value whole (c ∷ cs)) false (or_right (path_raises g.0) (follows_value whole (c ∷ cs)) may)))
kept_root known (f ∷ k) heap places ms whole root c cs spot w = absurd (w.rest)

-- A variable that is moved, or lent, is not lost.
pub moved_some : (h : Hold) (spot : Spot) → moved_by h spot ≡ None → h ≢ hold.Lost
moved_some h spot kept lost = cc (rw lost at kept)

lent_some : (h : Hold) (spot : Spot) → lost_by h spot ≡ None → h ≢ hold.Lost
lent_some h spot kept lost = cc (rw lost at kept)

some_by : (types : List TypeForm) (variables : List VariableForm) (here : Spot) (cleared : Bool) (x : ℕ) (whole : Bool) (root : ℕ) (spot : Spot) (holds : Holds) (more raised : Holds → Type 0) → Goes (gives types variables no_tracks here cleared x (value_of (at_path whole root [] spot)) holds) more raised → hold_at holds root ≢ hold.Lost
some_by types variables here cleared x whole root spot holds more raised g = go (is_borrower variables x) refl
  where
    go : (b : Bool) → is_borrower variables x ≡ b → hold_at holds root ≢ hold.Lost
    go true is = lent_some (hold_at holds root) spot (borrow_gives types variables here cleared x whole root [] spot holds more raised is g).0
    go false is = moved_some (hold_at holds root) spot (value_gives types variables here cleared x whole root [] spot holds more raised is g).0

pub some_root : (known : Known) (k : Control) (heap : List Object) (places : List Value) (ms : List Master) (whole : Bool) (root : ℕ) (spot : Spot) → (w : Working known heap places ms (Takes known heap places (value_of (at_path whole root [] spot)) k)) → hold_at w.holds root ≢ hold.Lost
some_root known [] heap places ms whole root spot w = absurd (w.rest)
some_root known (Stores x ∷ k) heap places ms whole root spot w =
    let among = assignment_among known (value_of (at_path whole root [] spot)) in
    some_by known.program.types known.program.variables w.rest.1.0 w.rest.0 x whole root spot w.holds (RunsOn known k w.rooms) (Raised among (ways known k w.rooms)) w.rest.1.1
some_root known (Declares x ∷ k) heap places ms whole root spot w =
    let among = assignment_among known (value_of (at_path whole root [] spot)) in
    some_by known.program.types known.program.variables w.rest.2.0 w.rest.1 x whole root spot w.holds (RunsOn known k w.rooms) (Raised among (ways known k w.rooms)) w.rest.2.1
some_root known (StoresIn o d ∷ k) heap places ms whole root spot w =
    let g = w.rest.1 in
    let among = component_among known (path_raises g.0) (value_of (at_path whole root [] spot)) in
    moved_some (hold_at w.holds root) spot (value_fills known.program.types g.1 g.0 whole root [] spot w.holds (RunsOn known k w.rooms) (Raised among (ways known k w.rooms)) g.2).0
some_root known (f ∷ k) heap places ms whole root spot w = absurd (w.rest)

-- The object that a variable names which is not lost is of the variable's access type.
pub root_access : {types : List TypeForm} {variables : List VariableForm} {outer : Outsiders} {heap : List Object} {places : List Value} {holds : Holds} → Fit types variables outer none_spared heap places holds → (x : ℕ) (spot : Spot) (o : Id) (object : Object) → lost_by (hold_at holds x) spot ≡ None → place_at places x ≡ Names o → object_at heap o ≡ Some object → variable_access variables x ≡ Some object.cell.access
root_access {types} {variables} {heap} {places} {holds} f x spot o object kept is found = by_kind (variable_access variables x) (root_names x spot kept f o is)
  where
    by_kind : (kind : Option ℕ) → IsOf (access_at heap) kind o → kind ≡ Some object.cell.access
    by_kind None of = absurd of
    by_kind (Some t) of = let h = present_at heap o t of in let one : h.object ≡ object = cc (h.found, found) in ap Some (sym h.access ∙ ap (λ (y : Object). y.cell.access) one)

-- What a moved path leads to is of the kind that it goes to.
pub one_kind : (p : ProgramForm) (kind to : VariableKind) (path : PathForm) → kind_takes p.types p.variables kind (value_of path) ≡ true → access_of (Some kind) ≡ value_access (Some to) → kind ≡ to
one_kind p held.Integer to path takes same = absurd (cc takes)
one_kind p held.Boolean to path takes same = absurd (cc takes)
one_kind p (held.Record t) to path takes same = absurd (cc takes)
one_kind p (held.Access t) (held.Record u) path takes same = absurd (cc same)
one_kind p (held.Access t) held.Integer path takes same = absurd (cc same)
one_kind p (held.Access t) held.Boolean path takes same = absurd (cc same)
one_kind p (held.Access t) (held.Access u) path takes same = let one : t.0 ≡ u.0 = cc same in ap (λ n. held.Access (record { 0 = n })) one

pub none_kind : (p : ProgramForm) (kind : VariableKind) (path : PathForm) → kind_takes p.types p.variables kind (value_of path) ≡ true → access_of (Some kind) ≡ None → ⊥
none_kind p held.Integer path takes none = cc takes
none_kind p held.Boolean path takes none = cc takes
none_kind p (held.Access t) path takes none = cc none
none_kind p (held.Record t) path takes none = cc takes

pub path_goes : (p : ProgramForm) (kind : VariableKind) (whole : Bool) (root : ℕ) (cs : List ℕ) (spot : Spot) → kind_takes p.types p.variables kind (value_of (at_path whole root cs spot)) ≡ true → selectors_kind p.types (variable_kind p.variables root) cs ≡ Some kind
path_goes p kind whole root cs spot takes = leads_from p.types whole (variable_kind p.variables root) cs kind (go (path_kind p.types p.variables path) refl)
  where
    path : PathForm
    path = at_path whole root cs spot

    goes : path_access p.types p.variables path ≡ access_of (Some kind)
    goes = value_goes p.types p.variables kind path takes

    go : (found : Option VariableKind) → path_kind p.types p.variables path ≡ found → path_kind p.types p.variables path ≡ Some kind
    go None is = absurd (none_kind p kind path takes (sym goes ∙ ap value_access is))
    go (Some to) is = is ∙ ap Some (sym (one_kind p kind to path takes (sym goes ∙ ap value_access is)))
