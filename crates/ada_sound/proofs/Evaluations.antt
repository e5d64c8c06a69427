-- What is assigned is evaluated, moved and stored; new objects come to be; what is read is written.

use Rattle.std.proofs.Common.{◌≡◌, ◌≢◌, ℕ, zero, suc, Bool, true, false, ◌==◌, ◌&&◌, ◌||◌, List, [], ◌∷◌, ◌++◌, length, map, refl, sym, ap, ◌∙◌, subst, ◌⊎◌, inl, inr}
use Rattle.std.proofs.lemmas.Bool.{and_parts, eqb-true}
use Rattle.std.specs.Prelude.{ℤ, Option, Some, None}
use Rattle.std.specs.List.{list_any, slice_get, slice_set}
use Rattle.ada_program.specs.declared.program.Exception.{Exception}
use Rattle.ada_program.specs.declared.program.Exception.TheVariants.{ConstraintError, StorageError}
use Rattle.ada_program.specs.declared.program.VariableKind.{VariableKind}
use Rattle.ada_program.specs.Form.{PathForm, ExpressionForm, ItemForm, RightForm, nothing, value_of, allocates, allocates_default, computes, assigns, StmtsForm, no_stmts, a_stmt}
use Rattle.ada_program.specs.ProgramForm.{VariableForm}
use Rattle.ada_text.specs.declared.spot.Spot.{Spot}
use Rattle.ada_program.specs.Handling.{is_same}
use Rattle.ada_program.specs.declared.program.ComponentKind.{ComponentKind}
use Rattle.ada_program.specs.declared.program.TypeDefinition.{TypeDefinition}
use Rattle.ada_program.specs.Typed.{reached_of, count_of, words_of}
use Rattle.ada_program.specs.WellFormed.{access_of, reached_components, selected_kind, selectors_kind, kind_takes, is_borrower}
use Rattle.ada_effects.specs.Effects.{expression_raises, items_raise, path_raises, right_raises, right_starts}
use Rattle.ada_flow.specs.declared.rule.Hold.{Hold}
use Rattle.ada_flow.specs.declared.rule.Hold.TheVariants as hold
use Rattle.ada_flow.specs.declared.rule.Region.TheVariants.{Whole}
use Rattle.ada_flow.specs.Flow.{Holds, hold_at, variable_access, uses_in, uses_in_items, uses_in_target, gives_component, is_freed, lost_by, without_alias, without_freed, without_values, moved_by_items, value_hold, borrowed_hold, ends_with, gives, same_selectors, same_path, clears, touched_hold, reads_it, broken_in}
use Rattle.ada_flow.specs.Tracking.{no_tracks}
use Rattle.ada_meaning.specs.declared.state.Id.{Id}
use Rattle.ada_meaning.specs.declared.state.Value.{Value}
use Rattle.ada_meaning.specs.declared.state.Value.TheVariants.{Null, Names, Scalar, Part}
use Rattle.ada_meaning.specs.declared.state.Mode.TheVariants.{Running, Raising}
use Rattle.ada_meaning.specs.Frame.{Does, Evaluates, Computes, Follows, Fills, Creates, Stores, StoresIn, Declares}
use Rattle.ada_meaning.specs.Event.{Followed, Line, Quiet}
use Rattle.ada_meaning.specs.Heap.{finds}
use Rattle.ada_meaning.specs.State.{declared, Activation}
use Rattle.ada_meaning.specs.Step.{in_front, initial_value, initial_values, owned, reading, component_next, follow_next, path_next, right_next, line_next, selected}
use Rattle.ada_meaning.specs.Named.{Object, State, object_at, look, named, store, inside}
use Rattle.ada_meaning.specs.Named.{whole as whole_of}
use Rattle.ada_owners.specs.Keeping.{IsThere}
use Rattle.ada_owners.specs.Places.{access_at, is_there, component, component_in, value_at}
use Rattle.ada_owners.proofs.Kernel.{same_place}
use Rattle.ada_owners.proofs.Changes.{store_reads, store_value}
use Rattle.ada_owners.specs.Walks.{walk}
use Rattle.ada_typed.specs.Holding.{cells_of}
use Rattle.ada_typed.proofs.Values.{OperandKind, of_kind, AreComputed}
use Rattle.ada_typed.proofs.Control as typed
use Rattle.ada_sound.proofs.Copied.{default_item, items_keep}
use Rattle.ada_sound.proofs.Gathered.{BareItems}
use Rattle.ada_sound.proofs.Defaults.{defaults_fit, defaults_raise, defaults_move, defaults_keep, defaults_bare, fill_defaults, DefaultFor, default_for, Reaches}
use Rattle.ada_sound.proofs.Values.{read_other}
use Rattle.ada_sound.proofs.Stored.{Stored, stored_owning}
use Rattle.ada_sound.proofs.Fits.{Fit, MayFollow, names_object, is_object, component_value, component_access, none_spared, place_at, put_null, put_alias, access_is, component_is, component_follows, take_variable, take_component, ArePlain, plain_object}
use Rattle.ada_sound.proofs.Begins.{component_opened, root_at, root_access, root_follows}
use Rattle.ada_sound.proofs.Invariant.{assignment_among, outers, below, HasRoom, Known, Control, Rooms, Roomed, Accepts, AwaitsIn, LeadsTo, GoesInto, Allocating, Clearing, component_among, StoringIn, Pairs, IsAlone, IsOne, Half, HalfBy, IsCleared, front, final, WalksOn, Goes, GoesTo, Initializes, Raised, RaisesAfter, RunsAfter, RunsOn, Spares, NoneBroken, StartsTo, To, MayRaise, RaisesAt, FillsIn, IsHolder, Takes, Computing, Working, Resumes, EvaluatesTo, Awaits, FindsFor, MovesOn, FillsOn, PassesOn, PassesTo, FollowsFor, HalfFollows, ReadyIn, Stepped, Fine, ways, begun, along}
use Rattle.ada_sound.proofs.Ready.{running, at_work, stays, ready_on, runs_on, resumes_on, jumps_less}
use Rattle.ada_sound.proofs.Walks.{finds_fine, fills_fine, passed_fine, half_fine, plain_whole}
use Rattle.ada_sound.proofs.Passed.{raises_behind, passes_fine}
use Rattle.ada_sound.proofs.Rooms.{roomed_declares}
use Rattle.ada_sound.proofs.LeftFinalized.{freed_none}
use Rattle.ada_sound.proofs.Orderings.{AsGood, without_freed_good}
use Rattle.ada_sound.proofs.Outcomes.{raised_before, to_here, using_goes, ends_goes}
use Rattle.ada_sound.proofs.Followings.{first_kept, kept_apart}
use Rattle.ada_sound.proofs.Roots.{selected_no_object, takes_none, takes_object, object_there, raises_null, raises_all, rest_raises}
use Rattle.ada_sound.proofs.Raising.{or_left, or_right}
use Rattle.ada_sound.proofs.Expressions.{MayRead, reads_fine}
use Rattle.ada_sound.proofs.Assigned.{Allocated, value_starts, computed_goes, allocated_goes, kind_names, selected_of}
use Rattle.ada_sound.proofs.Taken.{variable_none, declared_none, variable_goes, declared_goes, component_goes, at_path, value_gives, value_fills, cleared_is, stored_after, there_after, selectors_are, walk_on, kept_root, path_goes, null_place, move_by, borrow_by, borrow_gives, store_by, some_root}

-- An owner is no alias of what may be freed.
owner_stays : (b : Bool) → without_alias b (hold.Own Whole) ≡ hold.Own Whole
owner_stays true = refl
owner_stays false = refl

freed_owned : (may : ℕ → Bool) (variables : List VariableForm) (holds : Holds) (x : ℕ) → without_freed variables may (slice_set holds x (hold.Own Whole)) ≡ slice_set (without_freed variables may holds) x (hold.Own Whole)
freed_owned may [] holds x = refl
freed_owned may (v ∷ vs) [] x = refl
freed_owned may (v ∷ vs) (h ∷ hs) zero = ap (λ (g : Hold). g ∷ without_freed vs may hs) (owner_stays (is_freed may (access_of (Some v.kind))))
freed_owned may (v ∷ vs) (h ∷ hs) (suc x) = ap (λ (gs : Holds). without_alias (is_freed may (access_of (Some v.kind))) h ∷ gs) (freed_owned may vs hs x)

-- Where a path stands.
abbrev spot_of : PathForm → Spot
spot_of path = path.spot

-- An item's path is followed, or its value is there.
filling : (known : Known) (a : Activation Value) (rest : List (Activation Value)) (s : State) (below : List Value) (k : Control) (cs : List ℕ) (v : Value) → MayFollow s.heap v → (w : Working known s.heap a.places s.masters (FillsOn known s.heap a.places v below cs k)) → MayRaise known true ConstraintError k w.rooms w.holds → Fine known s.heap s.masters (path_next named cs v (running k (record a { operands = below }) rest s))
filling known a rest s below [] cs v follows w raise = absurd (w.rest)
filling known a rest s below (Fills items ∷ k) [] v follows w raise =
    stays known Quiet (running (Fills items ∷ k) (record a { operands = v ∷ below }) rest s) (tt, at_work w (w.rest v refl)) tt
filling known a rest s below (Fills items ∷ k) (c ∷ cs) v follows w raise = fills_fine known a rest s below items k c cs v w follows (raises_all known v (Fills items ∷ k) w.rooms w.holds cs (raise refl))
filling known a rest s below (f ∷ k) cs v follows w raise = absurd (w.rest)

module _ (known : Known) (k : Control) (a : Activation Value) (rest : List (Activation Value)) (s : State) (plain : ArePlain s.heap) where
  -- A variable's value is there for what awaits it.
  variable_ready : (whole : Bool) (root : ℕ) (spot : Spot) (kinds : List OperandKind) → typed.Fits known.program (cells_of s.heap) kinds (Evaluates (value_of (at_path whole root [] spot)) ∷ k) → Working known s.heap a.places s.masters (Takes known s.heap a.places (value_of (at_path whole root [] spot)) k) → ReadyIn known Running k s.heap a.places (place_at a.places root ∷ a.operands) s.masters
  variable_ready whole root spot kinds fits w = go k fits w
    where
      path : PathForm
      path = at_path whole root [] spot

      no_object_root : (kind : VariableKind) → kind_takes known.program.types known.program.variables kind (value_of (at_path whole root [] spot)) ≡ true → is_object known.program.variables root ≡ false
      no_object_root kind takes = ap names_object (path_goes known.program kind whole root [] spot takes) ∙ takes_none known.program.types known.program.variables kind (value_of (at_path whole root [] spot)) takes

      own_access : (kind : VariableKind) → kind_takes known.program.types known.program.variables kind (value_of (at_path whole root [] spot)) ≡ true → variable_access known.program.variables root ≡ access_of (Some kind)
      own_access kind takes = value_starts known.program.types known.program.variables kind (at_path whole root [] spot) takes

      into : (o : Value) (c : ℕ) (k' : Control) (kind : VariableKind) → kind_takes known.program.types known.program.variables kind (value_of (at_path whole root [] spot)) ≡ true → typed.Fits known.program (cells_of s.heap) (of_kind kind ∷ kinds) (StoresIn o c ∷ k') → (w' : Working known s.heap a.places s.masters (Takes known s.heap a.places (value_of (at_path whole root [] spot)) (StoresIn o c ∷ k'))) → StoringIn known o c (place_at a.places root) k' s.heap a.places s.masters
      into Null c k' kind takes fits' w' = absurd (w'.rest.0)
      into (Names o) c k' kind takes fits' w' =
          let there = w'.rest.0 in
          let g = w'.rest.1 in
          let h = value_fills known.program.types g.1 g.0 whole root [] spot w'.holds (RunsOn known k' w'.rooms) (Raised (component_among known (path_raises g.0) (value_of (at_path whole root [] spot))) (ways known k' w'.rooms)) g.2 in
          let same = component_goes known.program s.heap kind kinds o there.0 c k' there.1 fits' ∙ sym (own_access kind takes) in
          inl (
            there,
            inl (record {
              rooms = w'.rooms;
              holds = without_values (root ∷ []) w'.holds;
              stored = stored_after s.heap o c (place_at a.places root) w'.stored;
              roomed = w'.roomed;
              fit = store_by w'.fit root spot o there.0 c (hold_at w'.holds root) refl there.1 there.2 same h.0;
              rest = h.1;
            }),
          )
      into (Scalar n) c k' kind takes fits' w' = absurd (w'.rest.0)
      into (Part object_id base) c k' kind takes fits' w' = absurd (w'.rest.0)

      to : (More : Rooms → Holds → Type 0) (here : Spot) (cleared : Bool) (x : ℕ) (k' : Control) → is_object known.program.variables x ≡ false → is_object known.program.variables root ≡ false → variable_access known.program.variables x ≡ variable_access known.program.variables root → (rooms : Rooms) (holds : Holds) → Stored (outers known).under s.heap s.masters → Roomed (below known) s.masters rooms → Fit known.program.types known.program.variables (outers known) none_spared s.heap a.places holds → ((h : Holds) → RunsOn known k' rooms h → More rooms h) → Goes (gives known.program.types known.program.variables no_tracks here cleared x (value_of (at_path whole root [] spot)) holds) (RunsOn known k' rooms) (Raised (assignment_among known (value_of (at_path whole root [] spot))) (ways known k' rooms)) → Working known s.heap (slice_set a.places x (place_at a.places root)) s.masters More
      to More here cleared x k' none other same rooms holds stored roomed fit more g = by (is_borrower known.program.variables x) refl
        where
          by : (b : Bool) → is_borrower known.program.variables x ≡ b → Working known s.heap (slice_set a.places x (place_at a.places root)) s.masters More
          by true is =
              let h = borrow_gives known.program.types known.program.variables here cleared x whole root [] spot holds (RunsOn known k' rooms) (Raised (assignment_among known (value_of (at_path whole root [] spot))) (ways known k' rooms)) is g in
              record {
                rooms = rooms;
                holds = slice_set holds x (borrowed_hold (hold_at holds root));
                stored = stored;
                roomed = roomed;
                fit = borrow_by fit root spot x (hold_at holds root) none other refl same h.0;
                rest = more _ h.1;
              }
          by false is =
              let h = value_gives known.program.types known.program.variables here cleared x whole root [] spot holds (RunsOn known k' rooms) (Raised (assignment_among known (value_of (at_path whole root [] spot))) (ways known k' rooms)) is g in
              record {
                rooms = rooms;
                holds = slice_set (without_values (root ∷ []) holds) x (touched_hold (hold_at holds root));
                stored = stored;
                roomed = roomed;
                fit = move_by fit root spot x (hold_at holds root) none other refl same h.0;
                rest = more _ h.1;
              }

      go : (k' : Control) → typed.Fits known.program (cells_of s.heap) kinds (Evaluates (value_of (at_path whole root [] spot)) ∷ k') → Working known s.heap a.places s.masters (Takes known s.heap a.places (value_of (at_path whole root [] spot)) k') → ReadyIn known Running k' s.heap a.places (place_at a.places root ∷ a.operands) s.masters
      go [] fits' w' = absurd (w'.rest)
      go (Stores x ∷ k') (kind, takes, fits') w' = inl (to (RunsOn known k') w'.rest.1.0 w'.rest.0 x k' (variable_none known.program s.heap kind kinds x k' (takes_none known.program.types known.program.variables kind (value_of (at_path whole root [] spot)) takes) fits') (no_object_root kind takes) (variable_goes known.program s.heap kind kinds x k' fits' ∙ sym (own_access kind takes)) w'.rooms w'.holds w'.stored w'.roomed w'.fit (λ h r. r) w'.rest.1.1)
      go (Declares x ∷ k') (kind, takes, fits') w' = to (λ rooms holds. HasRoom rooms × RunsOn known k' rooms holds) w'.rest.2.0 w'.rest.1 x k' (declared_none known.program s.heap kind kinds x k' (takes_none known.program.types known.program.variables kind (value_of (at_path whole root [] spot)) takes) fits') (no_object_root kind takes) (declared_goes known.program s.heap kind kinds x k' fits' ∙ sym (own_access kind takes)) w'.rooms w'.holds w'.stored w'.roomed w'.fit (λ h r. (w'.rest.0, r)) w'.rest.2.1
      go (StoresIn o c ∷ k') (kind, takes, fits') w' = into o c k' kind takes fits' w'
      go (f ∷ k') fits' w' = absurd (w'.rest)

  -- The next statement clears the path: the second half of a take pair, once the first one's target has what the component named.
  half_behind : (heap : List Object) (places : List Value) (whole : Bool) (root : ℕ) (cs : List ℕ) (spot : Spot) (k' : Control) (o : Id) (c : ℕ) → IsCleared (at_path whole root cs spot) k' → final (along places (at_path whole root cs spot)) ≡ Some c → walk heap (begun places (at_path whole root cs spot)) (front (along places (at_path whole root cs spot))) ≡ finds (Names o) → IsThere heap o → ((p : Id) → component_in (object_at heap o) c ≡ Names p → IsThere heap p) → Working known (store heap (Names o) c Null) places s.masters (RunsOn known k') → HalfBy known k' heap places s.masters
  half_behind heap places whole root cs spot [] o c cleared last found there kept works = absurd cleared
  half_behind heap places whole root cs spot (Does fs ∷ k') o c cleared last found there kept works = go fs cleared works
    where
      same_root : (target : PathForm) → same_path target (at_path whole root cs spot) ≡ true → (target.root ≡ root) × (target.selectors ≡ cs)
      same_root target same =
          let h = and_parts (target.root == root) (same_selectors target.selectors cs) same in
          (eqb-true target.root root h.0, selectors_are target.selectors cs h.1)

      by : (target : PathForm) (later : StmtsForm) → (target.root ≡ root) × (target.selectors ≡ cs) → Working known (store heap (Names o) c Null) places s.masters (RunsOn known (Does (a_stmt (assigns target nothing) later) ∷ k')) → Half known (a_stmt (assigns target nothing) later) k' heap places s.masters
      by target later same w = record {
        path = target;
        later = later;
        o = o;
        c = c;
        is = refl;
        last = ap (λ (x : ℕ). final (selected named (place_at places x) target.selectors)) same.0 ∙ (ap (λ (ds : List ℕ). final (selected named (place_at places root) ds)) same.1 ∙ last);
        found = ap (λ (x : ℕ). walk heap (whole_of (place_at places x)) (front (selected named (place_at places x) target.selectors))) same.0 ∙ (ap (λ (ds : List ℕ). walk heap (whole_of (place_at places root)) (front (selected named (place_at places root) ds))) same.1 ∙ found);
        there = there;
        kept = kept;
        works = w;
      }

      go : (fs' : StmtsForm) → clears (at_path whole root cs spot) fs' ≡ true → Working known (store heap (Names o) c Null) places s.masters (RunsOn known (Does fs' ∷ k')) → Half known fs' k' heap places s.masters
      go no_stmts cleared' w = absurd (cc cleared')
      go (a_stmt (assigns target nothing) later) cleared' w = by target later (same_root target cleared') w
      go (a_stmt f later) cleared' w = absurd (cc cleared')
  half_behind heap places whole root cs spot (f ∷ k') o c cleared last found there kept works = absurd cleared

  -- The value of a component is taken: what awaits it gets it, and the component is cleared next.
  module _ (whole : Bool) (root : ℕ) (spot : Spot) (o : Id) (object : Object) (c : ℕ) (v : Value) (found : object_at s.heap o ≡ Some object) (listed : is_there object.stage ≡ true) (at : slice_get object.cell.values c ≡ Some v) where
    named_there : {holds : Holds} → Fit known.program.types known.program.variables (outers known) none_spared s.heap a.places holds → (p : Id) → v ≡ Names p → IsThere s.heap p
    named_there f p is = go (component_follows o object c v refl found listed at f)
      where
        go : MayFollow s.heap v → IsThere s.heap p
        go follows = rw is at follows

    -- Nothing is behind null.
    no_walk : (u : Value) (e : ℕ) (es : List ℕ) → u ≡ Null → walk s.heap u (front (e ∷ es)) ≡ finds (Names o) → ⊥
    no_walk u e [] null walks' = cc (null, walks')
    no_walk u e (g ∷ es) null walks' = let none = rw null at walks' in cc none

    -- The value of a component is lent to a borrower.
    borrow_component_by : {holds : Holds} (x d : ℕ) (ds : List ℕ) (h : Hold) → is_object known.program.variables x ≡ false → hold_at holds root ≡ h → lost_by h spot ≡ None → (f : Fit known.program.types known.program.variables (outers known) none_spared s.heap a.places holds) → WalksOn s.heap a.places (at_path whole root (d ∷ ds) spot) (Names o) (c ∷ []) → variable_access known.program.variables x ≡ component_access known.program.types object c → Fit known.program.types known.program.variables (outers known) none_spared s.heap (slice_set a.places x v) (slice_set holds x (borrowed_hold h))
    borrow_component_by x d ds hold.Null none is kept f walks same = absurd (no_walk (begun a.places (at_path whole root (d ∷ ds) spot)) (inside (place_at a.places root) d) ds (ap whole_of (null_place f root spot is)) walks.0)
    borrow_component_by x d ds (hold.Kept r) none is kept f walks same = put_alias x v r none (plain o object c v found at) (rw same (λ p e. component_is o object c v p refl found listed at e f)) f
    borrow_component_by x d ds (hold.Own r) none is kept f walks same = put_alias x v r none (plain o object c v found at) (rw same (λ p e. component_is o object c v p refl found listed at e f)) f
    borrow_component_by x d ds (hold.Alias r) none is kept f walks same = put_alias x v r none (plain o object c v found at) (rw same (λ p e. component_is o object c v p refl found listed at e f)) f
    borrow_component_by x d ds hold.Lost none is kept f walks same = absurd (cc kept)

    borrow_to : (More : Rooms → Holds → Type 0) (here : Spot) (cleared : Bool) (x d : ℕ) (ds : List ℕ) (k' : Control) (rooms : Rooms) (holds : Holds) → is_object known.program.variables x ≡ false → is_borrower known.program.variables x ≡ true → Stored (outers known).under s.heap s.masters → Roomed (below known) s.masters rooms → Fit known.program.types known.program.variables (outers known) none_spared s.heap a.places holds → WalksOn s.heap a.places (at_path whole root (d ∷ ds) spot) (Names o) (c ∷ []) → variable_access known.program.variables x ≡ component_access known.program.types object c → ((h : Holds) → RunsOn known k' rooms h → More rooms h) → Goes (gives known.program.types known.program.variables no_tracks here cleared x (value_of (at_path whole root (d ∷ ds) spot)) holds) (RunsOn known k' rooms) (Raised (assignment_among known (value_of (at_path whole root (d ∷ ds) spot))) (ways known k' rooms)) → Working known s.heap (slice_set a.places x v) s.masters More
    borrow_to More here cleared x d ds k' rooms holds none is stored roomed f walks same more g =
        let h = borrow_gives known.program.types known.program.variables here cleared x whole root (d ∷ ds) spot holds (RunsOn known k' rooms) (Raised (assignment_among known (value_of (at_path whole root (d ∷ ds) spot))) (ways known k' rooms)) is g in
        record { rooms = rooms; holds = slice_set holds x (borrowed_hold (hold_at holds root)); stored = stored; roomed = roomed; fit = borrow_component_by x d ds (hold_at holds root) none refl h.0 f walks same; rest = more _ h.1 }

    take_variable_by : (x d : ℕ) (ds : List ℕ) (k' : Control) (rooms : Rooms) (holds : Holds) (h : Hold) → is_object known.program.variables x ≡ false → hold_at holds root ≡ h → lost_by h spot ≡ None → Stored (outers known).under s.heap s.masters → Roomed (below known) s.masters rooms → (f : Fit known.program.types known.program.variables (outers known) none_spared s.heap a.places holds) → x ≢ root → IsCleared (at_path whole root (d ∷ ds) spot) k' → WalksOn s.heap a.places (at_path whole root (d ∷ ds) spot) (Names o) (c ∷ []) → variable_access known.program.variables x ≡ component_access known.program.types object c → RunsOn known k' rooms (slice_set holds x (value_hold (d ∷ ds) h)) → HalfBy known k' s.heap (slice_set a.places x v) s.masters
    take_variable_by x d ds k' rooms holds hold.Null none is kept stored roomed f ne cleared walks same more = absurd (no_walk (begun a.places (at_path whole root (d ∷ ds) spot)) (inside (place_at a.places root) d) ds (ap whole_of (null_place f root spot is)) walks.0)
    take_variable_by x d ds k' rooms holds hold.Lost none is kept stored roomed f ne cleared walks same more = absurd (cc kept)
    take_variable_by x d ds k' rooms holds (hold.Kept r) none is kept stored roomed f ne cleared walks same more =
        half_behind s.heap (slice_set a.places x v) whole root (d ∷ ds) spot k' o c cleared (ap (λ (u : Value). final (selected named u (d ∷ ds))) (read_other a.places x root v Null (λ e. ne (sym e))) ∙ walks.1)
        (ap (λ (u : Value). walk s.heap (whole_of u) (front (selected named u (d ∷ ds)))) (read_other a.places x root v Null (λ e. ne (sym e))) ∙ walks.0) (object, found, listed)
        (λ p e. named_there f p (sym (component_value s.heap [] o object c v found listed at) ∙ e))
        (record { rooms = rooms; holds = slice_set holds x (hold.Own r); stored = stored_after s.heap o c Null stored; roomed = roomed; fit = take_variable x r none o object c v (plain o object c v found at) found listed at same f; rest = more })
    take_variable_by x d ds k' rooms holds (hold.Own r) none is kept stored roomed f ne cleared walks same more =
        half_behind s.heap (slice_set a.places x v) whole root (d ∷ ds) spot k' o c cleared (ap (λ (u : Value). final (selected named u (d ∷ ds))) (read_other a.places x root v Null (λ e. ne (sym e))) ∙ walks.1)
        (ap (λ (u : Value). walk s.heap (whole_of u) (front (selected named u (d ∷ ds)))) (read_other a.places x root v Null (λ e. ne (sym e))) ∙ walks.0) (object, found, listed)
        (λ p e. named_there f p (sym (component_value s.heap [] o object c v found listed at) ∙ e))
        (record { rooms = rooms; holds = slice_set holds x (hold.Own r); stored = stored_after s.heap o c Null stored; roomed = roomed; fit = take_variable x r none o object c v (plain o object c v found at) found listed at same f; rest = more })
    take_variable_by x d ds k' rooms holds (hold.Alias r) none is kept stored roomed f ne cleared walks same more =
        half_behind s.heap (slice_set a.places x v) whole root (d ∷ ds) spot k' o c cleared (ap (λ (u : Value). final (selected named u (d ∷ ds))) (read_other a.places x root v Null (λ e. ne (sym e))) ∙ walks.1)
        (ap (λ (u : Value). walk s.heap (whole_of u) (front (selected named u (d ∷ ds)))) (read_other a.places x root v Null (λ e. ne (sym e))) ∙ walks.0) (object, found, listed)
        (λ p e. named_there f p (sym (component_value s.heap [] o object c v found listed at) ∙ e))
        (record { rooms = rooms; holds = slice_set holds x (hold.Own r); stored = stored_after s.heap o c Null stored; roomed = roomed; fit = take_variable x r none o object c v (plain o object c v found at) found listed at same f; rest = more })

    take_to : (here : Spot) (cleared : Bool) (x d : ℕ) (ds : List ℕ) (k' : Control) (rooms : Rooms) (holds : Holds) → is_object known.program.variables x ≡ false → is_borrower known.program.variables x ≡ false → Stored (outers known).under s.heap s.masters → Roomed (below known) s.masters rooms → Fit known.program.types known.program.variables (outers known) none_spared s.heap a.places holds → WalksOn s.heap a.places (at_path whole root (d ∷ ds) spot) (Names o) (c ∷ []) → variable_access known.program.variables x ≡ component_access known.program.types object c → Goes (gives known.program.types known.program.variables no_tracks here cleared x (value_of (at_path whole root (d ∷ ds) spot)) holds) (RunsOn known k' rooms) (Raised (assignment_among known (value_of (at_path whole root (d ∷ ds) spot))) (ways known k' rooms)) → Pairs cleared (value_of (at_path whole root (d ∷ ds) spot)) (λ path. x ≢ path.root) k' → HalfBy known k' s.heap (slice_set a.places x v) s.masters
    take_to here false x d ds k' rooms holds none owned stored roomed f walks same g pairs =
        let h = value_gives known.program.types known.program.variables here false x whole root (d ∷ ds) spot holds (RunsOn known k' rooms) (Raised (assignment_among known (value_of (at_path whole root (d ∷ ds) spot))) (ways known k' rooms)) owned g in
        let never = cleared_is false (hold_at holds root) spot h.0 in
        absurd (cc (never.0))
    take_to here true x d ds k' rooms holds none owned stored roomed f walks same g pairs =
        let h = value_gives known.program.types known.program.variables here true x whole root (d ∷ ds) spot holds (RunsOn known k' rooms) (Raised (assignment_among known (value_of (at_path whole root (d ∷ ds) spot))) (ways known k' rooms)) owned g in
        take_variable_by x d ds k' rooms holds (hold_at holds root) none refl h.0 stored roomed f pairs.0 pairs.1 walks same h.1

    declares_none : (here : Spot) (cleared : Bool) (x d : ℕ) (ds : List ℕ) (k' : Control) (rooms : Rooms) (holds : Holds) → is_borrower known.program.variables x ≡ false → Goes (gives known.program.types known.program.variables no_tracks here cleared x (value_of (at_path whole root (d ∷ ds) spot)) holds) (RunsOn known k' rooms) (Raised (assignment_among known (value_of (at_path whole root (d ∷ ds) spot))) (ways known k' rooms)) → IsAlone cleared → ⊥
    declares_none here true x d ds k' rooms holds owned g alone = alone
    declares_none here false x d ds k' rooms holds owned g alone =
        let h = value_gives known.program.types known.program.variables here false x whole root (d ∷ ds) spot holds (RunsOn known k' rooms) (Raised (assignment_among known (value_of (at_path whole root (d ∷ ds) spot))) (ways known k' rooms)) owned g in
        let none = cleared_is false (hold_at holds root) spot h.0 in
        cc (none.0)

    -- A variable gets the value: a borrower as it is, any other with the first half of a take pair; a declaration is none.
    stores_to : (here : Spot) (cleared : Bool) (x d : ℕ) (ds : List ℕ) (k' : Control) (rooms : Rooms) (holds : Holds) → is_object known.program.variables x ≡ false → Stored (outers known).under s.heap s.masters → Roomed (below known) s.masters rooms → Fit known.program.types known.program.variables (outers known) none_spared s.heap a.places holds → WalksOn s.heap a.places (at_path whole root (d ∷ ds) spot) (Names o) (c ∷ []) → variable_access known.program.variables x ≡ component_access known.program.types object c → Goes (gives known.program.types known.program.variables no_tracks here cleared x (value_of (at_path whole root (d ∷ ds) spot)) holds) (RunsOn known k' rooms) (Raised (assignment_among known (value_of (at_path whole root (d ∷ ds) spot))) (ways known k' rooms)) → Pairs cleared (value_of (at_path whole root (d ∷ ds) spot)) (λ path. x ≢ path.root) k' → Resumes known s.heap (slice_set a.places x v) s.masters k'
    stores_to here cleared x d ds k' rooms holds none stored roomed f walks same g pairs = by (is_borrower known.program.variables x) refl
      where
        by : (b : Bool) → is_borrower known.program.variables x ≡ b → Resumes known s.heap (slice_set a.places x v) s.masters k'
        by true is = inl (borrow_to (RunsOn known k') here cleared x d ds k' rooms holds none is stored roomed f walks same (λ h r. r) g)
        by false is = inr (take_to here cleared x d ds k' rooms holds none is stored roomed f walks same g pairs)

    declares_to : (More : Rooms → Holds → Type 0) (here : Spot) (cleared : Bool) (x d : ℕ) (ds : List ℕ) (k' : Control) (rooms : Rooms) (holds : Holds) → is_object known.program.variables x ≡ false → Stored (outers known).under s.heap s.masters → Roomed (below known) s.masters rooms → Fit known.program.types known.program.variables (outers known) none_spared s.heap a.places holds → WalksOn s.heap a.places (at_path whole root (d ∷ ds) spot) (Names o) (c ∷ []) → variable_access known.program.variables x ≡ component_access known.program.types object c → ((h : Holds) → RunsOn known k' rooms h → More rooms h) → Goes (gives known.program.types known.program.variables no_tracks here cleared x (value_of (at_path whole root (d ∷ ds) spot)) holds) (RunsOn known k' rooms) (Raised (assignment_among known (value_of (at_path whole root (d ∷ ds) spot))) (ways known k' rooms)) → IsAlone cleared → Working known s.heap (slice_set a.places x v) s.masters More
    declares_to More here cleared x d ds k' rooms holds none stored roomed f walks same more g alone = by (is_borrower known.program.variables x) refl
      where
        by : (b : Bool) → is_borrower known.program.variables x ≡ b → Working known s.heap (slice_set a.places x v) s.masters More
        by true is = borrow_to More here cleared x d ds k' rooms holds none is stored roomed f walks same more g
        by false is = absurd (declares_none here cleared x d ds k' rooms holds is g alone)

    -- The same into a component: then the path has one selector.
    take_into : (cleared : Bool) (target : PathForm) (q : Id) (holder : Object) (e d : ℕ) (ds : List ℕ) (k' : Control) (rooms : Rooms) (holds : Holds) → object_at s.heap q ≡ Some holder → is_there holder.stage ≡ true → Stored (outers known).under s.heap s.masters → Roomed (below known) s.masters rooms → Fit known.program.types known.program.variables (outers known) none_spared s.heap a.places holds → WalksOn s.heap a.places (at_path whole root (d ∷ ds) spot) (Names o) (c ∷ []) → component_access known.program.types holder e ≡ component_access known.program.types object c → Goes (gives_component known.program.types no_tracks cleared target (value_of (at_path whole root (d ∷ ds) spot)) holds) (RunsOn known k' rooms) (Raised (component_among known (path_raises target) (value_of (at_path whole root (d ∷ ds) spot))) (ways known k' rooms)) → Pairs cleared (value_of (at_path whole root (d ∷ ds) spot)) (λ taken. IsOne taken.selectors) k' → HalfBy known k' (store s.heap (Names q) e v) a.places s.masters
    take_into false target q holder e d ds k' rooms holds at_q listed_q stored roomed f walks same g pairs =
        let h = value_fills known.program.types false target whole root (d ∷ ds) spot holds (RunsOn known k' rooms) (Raised (component_among known (path_raises target) (value_of (at_path whole root (d ∷ ds) spot))) (ways known k' rooms)) g in
        let no = cleared_is false (hold_at holds root) spot h.0 in
        absurd (cc (no.0))
    take_into true target q holder e d (d' ∷ ds) k' rooms holds at_q listed_q stored roomed f walks same g pairs = absurd (pairs.0)
    take_into true target q holder e d [] k' rooms holds at_q listed_q stored roomed f walks same g pairs =
        let h = value_fills known.program.types true target whole root (d ∷ []) spot holds (RunsOn known k' rooms) (Raised (component_among known (path_raises target) (value_of (at_path whole root (d ∷ []) spot))) (ways known k' rooms)) g in
        half_behind (store s.heap (Names q) e v) a.places whole root (d ∷ []) spot k' o c pairs.1 walks.1 walks.0 (there_after s.heap q o e v (object, found, listed))
        (λ p is. there_after s.heap q p e v (named_there f p (stored_still p is)))
        (record { rooms = rooms; holds = holds; stored = stored_after (store s.heap (Names q) e v) o c Null (stored_after s.heap q e v stored); roomed = roomed; fit = take_component q holder e o object c v at_q listed_q found listed at same f; rest = h.1 })
      where
        stored_still : (p : Id) → component_in (object_at (store s.heap (Names q) e v) o) c ≡ Names p → v ≡ Names p
        stored_still p is = go (same_place (component o c) (component q e))
          where
            go : (component o c ≡ component q e) ⊎ (component o c ≢ component q e) → v ≡ Names p
            go (inl one) = store_value s.heap q holder at_q e v [] p (ap (λ place. value_at (store s.heap (Names q) e v) [] place) (sym one) ∙ is)
            go (inr ne) = sym (component_value s.heap [] o object c v found listed at) ∙ (sym (store_reads s.heap q holder at_q e v [] (component o c) ne) ∙ is)

    take_ready : (d : ℕ) (ds : List ℕ) (to : VariableKind) (kinds : List OperandKind) (below : List Value) → names_object (Some to) ≡ false → component_access known.program.types object c ≡ access_of (Some to) → WalksOn s.heap a.places (at_path whole root (d ∷ ds) spot) (Names o) (c ∷ []) → typed.Fits known.program (cells_of s.heap) (of_kind to ∷ kinds) k → Working known s.heap a.places s.masters (Takes known s.heap a.places (value_of (at_path whole root (d ∷ ds) spot)) k) → ReadyIn known Running k s.heap a.places (v ∷ below) s.masters
    take_ready d ds to kinds below none is walks fits w = go k fits w
      where
        into : (q : Value) (e : ℕ) (k' : Control) → typed.Fits known.program (cells_of s.heap) (of_kind to ∷ kinds) (StoresIn q e ∷ k') → (w' : Working known s.heap a.places s.masters (Takes known s.heap a.places (value_of (at_path whole root (d ∷ ds) spot)) (StoresIn q e ∷ k'))) → StoringIn known q e v k' s.heap a.places s.masters
        into Null e k' fits' w' = absurd (w'.rest.0)
        into (Names q) e k' fits' w' =
            let there = w'.rest.0 in
            let g = w'.rest.1 in
            inl (there, inr (take_into g.1 g.0 q there.0 e d ds k' w'.rooms w'.holds there.1 there.2 w'.stored w'.roomed w'.fit walks (component_goes known.program s.heap to kinds q there.0 e k' there.1 fits' ∙ sym is) g.2 g.3))
        into (Scalar n) e k' fits' w' = absurd (w'.rest.0)
        into (Part object_id base) e k' fits' w' = absurd (w'.rest.0)

        go : (k' : Control) → typed.Fits known.program (cells_of s.heap) (of_kind to ∷ kinds) k' → Working known s.heap a.places s.masters (Takes known s.heap a.places (value_of (at_path whole root (d ∷ ds) spot)) k') → ReadyIn known Running k' s.heap a.places (v ∷ below) s.masters
        go [] fits' w' = absurd (w'.rest)
        go (Stores x ∷ k') fits' w' = stores_to w'.rest.1.0 w'.rest.0 x d ds k' w'.rooms w'.holds (variable_none known.program s.heap to kinds x k' none fits') w'.stored w'.roomed w'.fit walks (variable_goes known.program s.heap to kinds x k' fits' ∙ sym is) w'.rest.1.1 w'.rest.2
        go (Declares x ∷ k') fits' w' = declares_to (λ rooms holds. HasRoom rooms × RunsOn known k' rooms holds) w'.rest.2.0 w'.rest.1 x d ds k' w'.rooms w'.holds (declared_none known.program s.heap to kinds x k' none fits') w'.stored w'.roomed w'.fit walks (declared_goes known.program s.heap to kinds x k' fits' ∙ sym is) (λ h r. (w'.rest.0, r)) w'.rest.2.1 w'.rest.3
        go (StoresIn q e ∷ k') fits' w' = into q e k' fits' w'
        go (f ∷ k') fits' w' = absurd (w'.rest)

  -- A path that is moved is followed by one selector.
  module _ (whole : Bool) (root : ℕ) (cs : List ℕ) (spot : Spot) (below : List Value) where
    at_last : (o : Id) (object : Object) (c : ℕ) (v : Value) (from : Option VariableKind) (to : VariableKind) (kinds : List OperandKind) → object_at s.heap o ≡ Some object → is_there object.stage ≡ true → slice_get object.cell.values c ≡ Some v → access_of from ≡ Some object.cell.access → selected_kind known.program.types from c ≡ Some to → typed.Fits known.program (cells_of s.heap) (of_kind to ∷ kinds) k → WalksOn s.heap a.places (at_path whole root cs spot) (Names o) (c ∷ []) → Working known s.heap a.places s.masters (Takes known s.heap a.places (value_of (at_path whole root cs spot)) k) → ReadyIn known Running k s.heap a.places (v ∷ below) s.masters
    at_last o object c v from to kinds found listed at own leads fits walks w = go cs walks w
      where
        go : (ds : List ℕ) → WalksOn s.heap a.places (at_path whole root ds spot) (Names o) (c ∷ []) → Working known s.heap a.places s.masters (Takes known s.heap a.places (value_of (at_path whole root ds spot)) k) → ReadyIn known Running k s.heap a.places (v ∷ below) s.masters
        go [] walks' w' = absurd (cc (walks'.1))
        go (d ∷ ds) walks' w' = take_ready whole root spot o object c v found listed at d ds to kinds below (selected_no_object known.program.types from c to leads) (selected_of known.program.types from object c to own leads) walks' fits w'

    moved_on : (u : Value) (o : Id) (object : Object) (c : ℕ) (ds : List ℕ) (v : Value) (from : Option VariableKind) (to : VariableKind) (kinds : List OperandKind) → object_at s.heap o ≡ Some object → is_there object.stage ≡ true → slice_get object.cell.values c ≡ Some v → access_of from ≡ Some object.cell.access → selectors_kind known.program.types from (c ∷ ds) ≡ Some to → typed.Fits known.program (cells_of s.heap) (of_kind to ∷ kinds) k → WalksOn s.heap a.places (at_path whole root cs spot) (Names o) (c ∷ ds) → (w : Working known s.heap a.places s.masters (Takes known s.heap a.places (value_of (at_path whole root cs spot)) k)) → RaisesAt known u ds k w.rooms w.holds → Stepped known s.heap (Followed (Names o)) (reading named ds v (running k (record a { operands = below }) rest s))
    moved_on u o object c [] v from to kinds found listed at own leads fits walks w raise =
        stays known (Followed (Names o)) (running k (record a { operands = v ∷ below }) rest s)
        (tt, at_last o object c v from to kinds found listed at own leads fits walks w)
        (record { id = o; object = object; is = refl; found = found; there = listed })
    moved_on u o object c (d ∷ ds) v from to kinds found listed at own leads fits walks w raise =
        let seen : walk s.heap (Names o) (c ∷ front (d ∷ ds)) ≡ walk s.heap v (front (d ∷ ds)) = walk_on s.heap o object c (front (d ∷ ds)) v found ((w.stored.sane o object found).there_exists listed) at in
        stays known (Followed (Names o)) (running (Follows (d ∷ ds) ∷ k) (record a { operands = v ∷ below }) rest s)
        (tt, inl (at_work w (component_follows o object c v refl found listed at w.fit, inr ((λ may. raise), inr (inl (at_path whole root cs spot, (walks.0 ∙ seen, walks.1), w.rest))))))
        (record { id = o; object = object; is = refl; found = found; there = listed })

    moved_component : (u : Value) (o : Id) (object : Object) (c : ℕ) (ds : List ℕ) (found_value : Option Value) (from : Option VariableKind) (to : VariableKind) (kinds : List OperandKind) → slice_get object.cell.values c ≡ found_value → object_at s.heap o ≡ Some object → is_there object.stage ≡ true → access_of from ≡ Some object.cell.access → selectors_kind known.program.types from (c ∷ ds) ≡ Some to → typed.Fits known.program (cells_of s.heap) (of_kind to ∷ kinds) k → WalksOn s.heap a.places (at_path whole root cs spot) (Names o) (c ∷ ds) → (w : Working known s.heap a.places s.masters (Takes known s.heap a.places (value_of (at_path whole root cs spot)) k)) → RaisesAt known u ds k w.rooms w.holds → Fine known s.heap s.masters (component_next named (Names o) ds found_value (running k (record a { operands = below }) rest s))
    moved_component u o object c ds None from to kinds at found listed own leads fits walks w raise = tt
    moved_component u o object c ds (Some v) from to kinds at found listed own leads fits walks w raise = moved_on u o object c ds v from to kinds found listed at own leads fits walks w raise

    moves_fine : (c : ℕ) (ds : List ℕ) (u : Value) (from : Option VariableKind) (to : VariableKind) (kinds : List OperandKind) → MayFollow s.heap u → ((o : Id) (object : Object) → u ≡ Names o → object_at s.heap o ≡ Some object → access_of from ≡ Some object.cell.access) → selectors_kind known.program.types from (c ∷ ds) ≡ Some to → typed.Fits known.program (cells_of s.heap) (of_kind to ∷ kinds) k → WalksOn s.heap a.places (at_path whole root cs spot) u (c ∷ ds) → (w : Working known s.heap a.places s.masters (Takes known s.heap a.places (value_of (at_path whole root cs spot)) k)) → RaisesAt known u ds k w.rooms w.holds → Fine known s.heap s.masters (follow_next named u c ds (look s.heap u) (running k (record a { operands = below }) rest s))
    moves_fine c ds Null from to kinds follows own leads fits walks w raise = jumps_less known k (record a { operands = below }) rest s (Raising ConstraintError) (at_work w (raises_null known Null k w.rooms w.holds ds raise refl))
    moves_fine c ds (Names o) from to kinds follows own leads fits walks w raise =
        rw (follows.1, (w.stored.sane o follows.0 follows.1).there_exists follows.2)
        (moved_component (Names o) o follows.0 c ds (slice_get follows.0.cell.values c) from to kinds refl follows.1 follows.2 (own o follows.0 refl follows.1) leads fits walks w raise)
    moves_fine c ds (Scalar n) from to kinds follows own leads fits walks w raise = tt
    moves_fine c ds (Part object_id base) from to kinds follows own leads fits walks w raise = tt

  -- What is moved is a variable's value, or a component's.
  value_fine : (whole : Bool) (root : ℕ) (cs : List ℕ) (spot : Spot) (kinds : List OperandKind) → typed.Fits known.program (cells_of s.heap) kinds (Evaluates (value_of (at_path whole root cs spot)) ∷ k) → Working known s.heap a.places s.masters (Takes known s.heap a.places (value_of (at_path whole root cs spot)) k) → Fine known s.heap s.masters (path_next named (along a.places (at_path whole root cs spot)) (begun a.places (at_path whole root cs spot)) (running k a rest s))
  value_fine whole root [] spot kinds (kind, takes, fits) w =
      let none = ap names_object (path_goes known.program kind whole root [] spot takes) ∙ takes_none known.program.types known.program.variables kind (value_of (at_path whole root [] spot)) takes in
      let same = plain_whole (place_at a.places root) (plain_object root (some_root known k s.heap a.places s.masters whole root spot w) none w.fit) in
      rw same (ready_on known k a rest s (place_at a.places root ∷ a.operands) (variable_ready whole root spot kinds (kind, takes, fits) w))
  value_fine whole root (c ∷ cs) spot kinds (kind, takes, fits) w =
      let kept = kept_root known k s.heap a.places s.masters whole root c cs spot w in
      let b = root_at root spot kept.0 w.fit in
      moves_fine whole root (c ∷ cs) spot a.operands (inside (place_at a.places root) c) cs (begun a.places (at_path whole root (c ∷ cs) spot)) b.from kind kinds
      (root_follows root spot kept.0 w.fit)
      (λ o object is found. root_access b o object is found)
      (b.leads c cs kind (path_goes known.program kind whole root (c ∷ cs) spot takes)) fits (refl, refl) w
      (rest_raises known (begun a.places (at_path whole root (c ∷ cs) spot)) k w.rooms w.holds whole c cs (λ is. object_there root spot kept.0 (takes_object known.program.types known.program.variables kind (at_path whole root (c ∷ cs) spot) takes is) w.fit) kept.1)

  -- The component that the object goes to, if it goes to one; that no item breaks a rule; and what an allocator leads to.
  abbrev Allocated_to : ℕ → List ItemForm → Control → Rooms → Holds → Type 0
  Allocated_to access items k' rooms holds =
      (here : Spot) × (target : Option PathForm) × GoesInto s.heap a.places target k' × NoneBroken holds (uses_in_items known.program.types here target [] items) × Allocating known s.heap access items k' rooms holds

  -- What an allocator leads to.
  allocating : (access : ℕ) (items : List ItemForm) (kind : VariableKind) (kinds : List OperandKind) → known.touches access ≡ false → kind_takes known.program.types known.program.variables kind (allocates access items) ≡ true → typed.Fits known.program (cells_of s.heap) (of_kind kind ∷ kinds) k → (rooms : Rooms) (holds : Holds) → Takes known s.heap a.places (allocates access items) k rooms holds → Allocated_to access items k rooms holds
  allocating access items kind kinds apart takes fits rooms holds = go k fits
    where
      al : Allocated known.program.types known.program.variables kind access items
      al = allocated_goes known.program.types known.program.variables kind access items takes

      to : (x : ℕ) (k' : Control) → variable_access known.program.variables x ≡ access_of (Some kind) → (here : Spot) (cleared : Bool) → Goes (gives known.program.types known.program.variables no_tracks here cleared x (allocates access items) holds) (To (RunsOn known k' rooms)) (Raised (assignment_among known (allocates access items)) (ways known k' rooms)) → NoneBroken holds (uses_in_items known.program.types here None [] items) × (((variable_access known.program.variables x ≡ Some access) × To (RunsOn known k' rooms) (slice_set (without_values (moved_by_items no_tracks items) holds) x (hold.Own Whole))) × Raised (assignment_among known (allocates access items)) (ways known k' rooms) holds)
      to x k' is here cleared g =
          let u = using_goes (uses_in_items known.program.types here None [] items) holds (ends_with true holds (slice_set (without_values (moved_by_items no_tracks items) holds) x (hold.Own Whole))) (To (RunsOn known k' rooms)) (Raised (assignment_among known (allocates access items)) (ways known k' rooms)) g in
          (u.0, ((is ∙ al.goes, u.1.0), u.1.1))

      into : (o : Value) (c : ℕ) (k' : Control) → typed.Fits known.program (cells_of s.heap) (of_kind kind ∷ kinds) (StoresIn o c ∷ k') → IsHolder s.heap o → (g : FillsIn known (allocates access items) (LeadsTo s.heap a.places o [] c) rooms holds k') → NoneBroken holds (uses_in_items known.program.types (spot_of g.0) (Some g.0) [] items) × ((Accepts known s.heap o c (Some access) × To (RunsOn known k' rooms) (without_values (moved_by_items no_tracks items) holds)) × Raised (component_among known (path_raises g.0) (allocates access items)) (ways known k' rooms) holds)
      into Null c k' fits' there g = absurd there
      into (Names o) c k' fits' there g =
          let items_use = uses_in_items known.program.types (spot_of g.0) (Some g.0) [] items in
          let may = path_raises g.0 || true in
          let after = without_values (moved_by_items no_tracks items) holds in
          let raised' = Raised (component_among known (path_raises g.0) (allocates access items)) (ways known k' rooms) in
          let u = using_goes (uses_in_target g.0 ++ items_use) holds (ends_with may holds after) (To (RunsOn known k' rooms)) raised' g.2 in
          let n = ends_goes may holds after (To (RunsOn known k' rooms)) raised' u.1 in
          ((kept_apart holds (uses_in_target g.0) items_use u.0).1, (((there.0, there.1, there.2, component_goes known.program s.heap kind kinds o there.0 c k' there.1 fits' ∙ al.goes), n.0), n.1 (or_right (path_raises g.0) true refl)))
      into (Scalar n) c k' fits' there g = absurd there
      into (Part object_id base) c k' fits' there g = absurd there

      none : names_object (Some kind) ≡ false
      none = takes_none known.program.types known.program.variables kind (allocates access items) takes

      go : (k' : Control) → typed.Fits known.program (cells_of s.heap) (of_kind kind ∷ kinds) k' → Takes known s.heap a.places (allocates access items) k' rooms holds → Allocated_to access items k' rooms holds
      go [] fits' g = absurd g
      go (Stores x ∷ k') fits' g =
          let h = to x k' (variable_goes known.program s.heap kind kinds x k' fits') g.1.0 g.0 g.1.1 in
          (g.1.0, None, tt, h.0, record { components = al.components; reached = al.reached; fit = al.fit; fails = λ may. h.1.1 ConstraintError (rw may refl); refused = λ may. h.1.1 StorageError refl; starts = λ e may. h.1.1 e (or_right (right_raises (is_same e) (allocates access items)) (right_starts known.implicit (is_same e) (allocates access items)) may); room = tt; to = ((h.1.0.0, variable_none known.program s.heap kind kinds x k' none fits'), h.1.0.1); initializes = λ touches. absurd (cc (touches, apart)) })
      go (Declares x ∷ k') fits' g =
          let h = to x k' (declared_goes known.program s.heap kind kinds x k' fits') g.2.0 g.1 g.2.1 in
          (g.2.0, None, tt, h.0, record { components = al.components; reached = al.reached; fit = al.fit; fails = λ may. h.1.1 ConstraintError (rw may refl); refused = λ may. h.1.1 StorageError refl; starts = λ e may. h.1.1 e (or_right (right_raises (is_same e) (allocates access items)) (right_starts known.implicit (is_same e) (allocates access items)) may); room = g.0; to = ((h.1.0.0, declared_none known.program s.heap kind kinds x k' none fits'), h.1.0.1); initializes = λ touches. absurd (cc (touches, apart)) })
      go (StoresIn o c ∷ k') fits' g =
          let h = into o c k' fits' g.0 g.1 in
          (spot_of g.1.0, Some g.1.0, g.1.4, h.0, record { components = al.components; reached = al.reached; fit = al.fit; fails = λ may. h.1.1 ConstraintError (or_left (path_raises g.1.0 || items_raise items) (right_starts known.implicit (is_same ConstraintError) (allocates access items)) (or_right (path_raises g.1.0) (items_raise items) may)); refused = λ may. h.1.1 StorageError refl; starts = λ e may. h.1.1 e (or_right ((is_same e ConstraintError && path_raises g.1.0) || right_raises (is_same e) (allocates access items)) (right_starts known.implicit (is_same e) (allocates access items)) may); room = tt; to = h.1.0; initializes = λ touches. absurd (cc (touches, apart)) })
      go (f ∷ k') fits' g = absurd g

  -- What an allocator without items leads to.
  abbrev Defaulted_to : ℕ → List ComponentKind → Control → Rooms → Holds → Type 0
  Defaulted_to access components k' rooms holds = Allocating known s.heap access (map default_item components) k' rooms holds

  defaulting : (access : ℕ) (kind : VariableKind) (kinds : List OperandKind) (d : DefaultFor known.program.types kind access) → names_object (Some kind) ≡ false → typed.Fits known.program (cells_of s.heap) (of_kind kind ∷ kinds) k → (rooms : Rooms) (holds : Holds) → Fit known.program.types known.program.variables (outers known) none_spared s.heap a.places holds → Takes known s.heap a.places (allocates_default access) k rooms holds → Defaulted_to access d.components k rooms holds
  defaulting access kind kinds d none fits rooms holds fit = go k fits
    where
      variables : List VariableForm
      variables = known.program.variables

      may : ℕ → Bool
      may = known.implicit.start_frees access

      -- What is known behind it: no alias is left of what its initialization may free.
      behind : Holds
      behind = without_freed variables may holds

      good : AsGood holds behind
      good = without_freed_good variables may holds

      to : (x : ℕ) (k' : Control) (here : Spot) (cleared : Bool) → Goes (gives known.program.types known.program.variables no_tracks here cleared x (allocates_default access) holds) (RunsAfter known (allocates_default access) k' rooms) (RaisesAfter known (allocates_default access) k' rooms (assignment_among known (allocates_default access))) → RunsAfter known (allocates_default access) k' rooms (slice_set holds x (hold.Own Whole)) × Raised (assignment_among known (allocates_default access)) (ways known k' rooms) behind
      to x k' here cleared g =
          (using_goes [] holds (ends_with true holds (slice_set holds x (hold.Own Whole))) (RunsAfter known (allocates_default access) k' rooms) (RaisesAfter known (allocates_default access) k' rooms (assignment_among known (allocates_default access))) g).1

      -- With the new object's owner less is known as well.
      owned : (x : ℕ) (k' : Control) → RunsOn known k' rooms (without_freed variables may (slice_set holds x (hold.Own Whole))) → To (RunsOn known k' rooms) (slice_set holds x (hold.Own Whole))
      owned x k' runs = (without_freed variables may (slice_set holds x (hold.Own Whole)), without_freed_good variables may (slice_set holds x (hold.Own Whole)), runs)

      owned_behind : (x : ℕ) (k' : Control) → RunsOn known k' rooms (without_freed variables may (slice_set holds x (hold.Own Whole))) → To (RunsOn known k' rooms) (slice_set behind x (hold.Own Whole))
      owned_behind x k' runs = to_here (RunsOn known k' rooms) (slice_set behind x (hold.Own Whole)) (rw (freed_owned may variables holds x) at runs)

      -- What may come out of its initialization was known before, too.
      raised_here : (k' : Control) (among : Exception → Bool) → Raised among (ways known k' rooms) behind → Raised among (ways known k' rooms) holds
      raised_here k' among raised = raised_before among (ways known k' rooms) holds behind good raised

      into : (o : Value) (c : ℕ) (k' : Control) → typed.Fits known.program (cells_of s.heap) (of_kind kind ∷ kinds) (StoresIn o c ∷ k') → IsHolder s.heap o → (g : FillsIn known (allocates_default access) (LeadsTo s.heap a.places o [] c) rooms holds k') → (Accepts known s.heap o c (Some access) × RunsAfter known (allocates_default access) k' rooms holds) × Raised (component_among known (path_raises g.0) (allocates_default access)) (ways known k' rooms) behind
      into Null c k' fits' there g = absurd there
      into (Names o) c k' fits' there g =
          let some = path_raises g.0 || true in
          let after = RunsAfter known (allocates_default access) k' rooms in
          let raised' = RaisesAfter known (allocates_default access) k' rooms (component_among known (path_raises g.0) (allocates_default access)) in
          let u = using_goes (uses_in_target g.0 ++ []) holds (ends_with some holds holds) after raised' g.2 in
          let n = ends_goes some holds holds after raised' u.1 in
          (((there.0, there.1, there.2, component_goes known.program s.heap kind kinds o there.0 c k' there.1 fits' ∙ d.goes), n.0), n.1 (or_right (path_raises g.0) true refl))
      into (Scalar n) c k' fits' there g = absurd there
      into (Part object_id base) c k' fits' there g = absurd there

      -- The path of the component uses nothing that is lost.
      kept_here : (c : ℕ) (o : Id) (k' : Control) (g : FillsIn known (allocates_default access) (LeadsTo s.heap a.places (Names o) [] c) rooms holds k') → lost_by (hold_at holds g.0.root) g.0.spot ≡ None
      kept_here c o k' g =
          let some = path_raises g.0 || true in
          let after = RunsAfter known (allocates_default access) k' rooms in
          let raised' = RaisesAfter known (allocates_default access) k' rooms (component_among known (path_raises g.0) (allocates_default access)) in
          let u = using_goes (uses_in_target g.0 ++ []) holds (ends_with some holds holds) after raised' g.2 in
          by g.0.selectors refl (first_kept holds (reads_it g.0) [] (kept_apart holds (uses_in_target g.0) [] u.0).0).0
        where
          by : (ds : List ℕ) → g.0.selectors ≡ ds → broken_in no_tracks holds (reads_it g.0) ≡ None → lost_by (hold_at holds g.0.root) g.0.spot ≡ None
          by [] is kept = let never : None ≡ Some c = rw is at (g.4.1) in absurd (cc never)
          by (d ∷ ds) is kept = rw is at kept

      -- The object of the component waits for the new one: it is of a type that the initialization may not free, or a call refers to it.
      waits : (o : Value) (c : ℕ) (k' : Control) → typed.Fits known.program (cells_of s.heap) (of_kind kind ∷ kinds) (StoresIn o c ∷ k') → IsHolder s.heap o → FillsIn known (allocates_default access) (LeadsTo s.heap a.places o [] c) rooms holds k' → AwaitsIn known s.heap access o c
      waits Null c k' fits' there g = absurd there
      waits (Names o) c k' fits' there g =
          let found = component_opened fit g.0 g.5.1 (Part o (record { component = c; part = 0 })) g.5.2 (kept_here c o k' g) (o, c, refl, g.4.0, g.4.1) in
          let same : found.o ≡ o = let names = found.is in cc names in
          let here : access_at s.heap o ≡ Some found.t = rw same at (found.there) in
          let own : there.0.cell.access ≡ found.t = let at = access_is s.heap o there.0 there.1 there.2 in cc (at, here) in
          let accepts : component_access known.program.types there.0 c ≡ Some access = component_goes known.program s.heap kind kinds o there.0 c k' there.1 fits' ∙ d.goes in (
            found.t,
            here,
            (rw own at accepts, elim (found.spared) [ inl static ↦ inl (static may g.5.0) | inr refers ↦ inr (rw same at refers) ]),
          )
      waits (Scalar n) c k' fits' there g = absurd there
      waits (Part object_id base) c k' fits' there g = absurd there

      -- What may come out of the initialization is among what the assignment to a variable raises.
      among : Exception → Bool
      among = assignment_among known (allocates_default access)

      more : (e : Exception) → list_any (is_same e) (known.implicit.start_raises access) ≡ true → among e ≡ true
      more e starts = or_right (right_raises (is_same e) (allocates_default access)) (right_starts known.implicit (is_same e) (allocates_default access)) starts

      -- What it leads to where operations may be called for the object that touch storage.
      initialized : (k' : Control) → Spares known may → StartsTo known access k' rooms behind → GoesTo known (AwaitsIn known s.heap access) access k' rooms behind → (moved_by_items no_tracks (map default_item d.components) ≡ []) × Initializes known s.heap access k' rooms holds
      initialized k' spares undone goes = (
        defaults_move d.components,
        record { less = behind; good = good; well = (spares, freed_none variables may holds); undone = undone; to = goes },
      )

      go : (k' : Control) → typed.Fits known.program (cells_of s.heap) (of_kind kind ∷ kinds) k' → Takes known s.heap a.places (allocates_default access) k' rooms holds → Defaulted_to access d.components k' rooms holds
      go [] fits' g = absurd g
      go (Stores x ∷ k') fits' g =
          let h = to x k' g.1.0 g.0 g.1.1 in
          let raised = raised_here k' among h.1 in
          let owner : (variable_access variables x ≡ Some access) × (is_object variables x ≡ false) = (variable_goes known.program s.heap kind kinds x k' fits' ∙ d.goes, variable_none known.program s.heap kind kinds x k' none fits') in
          record { components = d.components; reached = d.reached; fit = defaults_fit known.program.types variables d.components; fails = λ raising. absurd (cc (raising, defaults_raise d.components)); refused = λ raising. raised StorageError refl; starts = λ e starts. raised e (more e starts); room = tt; to = (owner, rw (defaults_move d.components) (owned x k' h.0.0)); initializes = λ touches. initialized (Stores x ∷ k') h.0.1 (λ e starts. h.1 e (more e starts)) (owner, owned_behind x k' h.0.0) }
      go (Declares x ∷ k') fits' g =
          let h = to x k' g.2.0 g.1 g.2.1 in
          let raised = raised_here k' among h.1 in
          let owner : (variable_access variables x ≡ Some access) × (is_object variables x ≡ false) = (declared_goes known.program s.heap kind kinds x k' fits' ∙ d.goes, declared_none known.program s.heap kind kinds x k' none fits') in
          record { components = d.components; reached = d.reached; fit = defaults_fit known.program.types variables d.components; fails = λ raising. absurd (cc (raising, defaults_raise d.components)); refused = λ raising. raised StorageError refl; starts = λ e starts. raised e (more e starts); room = g.0; to = (owner, rw (defaults_move d.components) (owned x k' h.0.0)); initializes = λ touches. initialized (Declares x ∷ k') h.0.1 (λ e starts. h.1 e (more e starts)) (owner, owned_behind x k' h.0.0) }
      go (StoresIn o c ∷ k') fits' g =
          let h = into o c k' fits' g.0 g.1 in
          let raised = raised_here k' (component_among known (path_raises g.1.0) (allocates_default access)) h.1 in
          let starting : StartsTo known access k' rooms behind = λ e starts. h.1 e (or_right ((is_same e ConstraintError && path_raises g.1.0) || right_raises (is_same e) (allocates_default access)) (right_starts known.implicit (is_same e) (allocates_default access)) starts) in
          record { components = d.components; reached = d.reached; fit = defaults_fit known.program.types variables d.components; fails = λ raising. absurd (cc (raising, defaults_raise d.components)); refused = λ raising. raised StorageError refl; starts = λ e starts. raised e (or_right ((is_same e ConstraintError && path_raises g.1.0) || right_raises (is_same e) (allocates_default access)) (right_starts known.implicit (is_same e) (allocates_default access)) starts); room = tt; to = (h.0.0, rw (defaults_move d.components) (behind, good, h.0.1.0)); initializes = λ touches. initialized (StoresIn o c ∷ k') h.0.1.1 starting (waits o c k' fits' g.0 g.1, to_here (RunsOn known k' rooms) behind h.0.1.0) }
      go (f ∷ k') fits' g = absurd g

  -- An expression goes to a variable on which nothing relies, or into a component without access values.
  computing : (e : ExpressionForm) (kind : VariableKind) (kinds : List OperandKind) → kind_takes known.program.types known.program.variables kind (computes e) ≡ true → typed.Fits known.program (cells_of s.heap) (of_kind kind ∷ kinds) k → (rooms : Rooms) (holds : Holds) → Takes known s.heap a.places (computes e) k rooms holds → Computing known s.heap a.places a.operands e k rooms holds
  computing e kind kinds takes fits rooms holds = go k fits
    where
      to : (x : ℕ) (k' : Control) (here : Spot) (cleared : Bool) → Goes (gives known.program.types known.program.variables no_tracks here cleared x (computes e) holds) (RunsOn known k' rooms) (Raised (assignment_among known (computes e)) (ways known k' rooms)) → NoneBroken holds (uses_in e) × (RunsOn known k' rooms (slice_set holds x hold.Lost) × (expression_raises e ≡ true → Raised (assignment_among known (computes e)) (ways known k' rooms) holds))
      to x k' here cleared g =
          let raised' = Raised (assignment_among known (computes e)) (ways known k' rooms) in
          let u = using_goes (uses_in e) holds (ends_with (expression_raises e) holds (slice_set holds x hold.Lost)) (RunsOn known k' rooms) raised' g in
          let n = ends_goes (expression_raises e) holds (slice_set holds x hold.Lost) (RunsOn known k' rooms) raised' u.1 in
          (u.0, (n.0, n.1))

      into : (o : Value) (c : ℕ) (k' : Control) → typed.Fits known.program (cells_of s.heap) (of_kind kind ∷ kinds) (StoresIn o c ∷ k') → IsHolder s.heap o → (g : FillsIn known (computes e) (LeadsTo s.heap a.places o [] c) rooms holds k') → NoneBroken holds (uses_in e) × ((Accepts known s.heap o c None × RunsOn known k' rooms holds) × (expression_raises e ≡ true → To ((ways known k' rooms).raised ConstraintError) holds))
      into Null c k' fits' there g = absurd there
      into (Names o) c k' fits' there g =
          let may = path_raises g.0 || expression_raises e in
          let raised' = Raised (component_among known (path_raises g.0) (computes e)) (ways known k' rooms) in
          let u = using_goes (uses_in_target g.0 ++ uses_in e) holds (ends_with may holds holds) (RunsOn known k' rooms) raised' g.2 in
          let n = ends_goes may holds holds (RunsOn known k' rooms) raised' u.1 in
          ((kept_apart holds (uses_in_target g.0) (uses_in e) u.0).1, (((there.0, there.1, there.2, component_goes known.program s.heap kind kinds o there.0 c k' there.1 fits' ∙ computed_goes known.program.types known.program.variables kind e takes), n.0), λ raises. (let either = or_right (path_raises g.0) (expression_raises e) raises in n.1 either ConstraintError (or_left may false either))))
      into (Scalar n) c k' fits' there g = absurd there
      into (Part object_id base) c k' fits' there g = absurd there

      go : (k' : Control) → typed.Fits known.program (cells_of s.heap) (of_kind kind ∷ kinds) k' → Takes known s.heap a.places (computes e) k' rooms holds → Computing known s.heap a.places a.operands e k' rooms holds
      go [] fits' g = absurd g
      go (Stores x ∷ k') fits' g = let h = to x k' g.1.0 g.0 g.1.1 in (h.0, (λ may. h.1.1 may ConstraintError (or_left (expression_raises e) false may)), h.1.0)
      go (Declares x ∷ k') fits' g = let h = to x k' g.2.0 g.1 g.2.1 in (h.0, (λ may. h.1.1 may ConstraintError (or_left (expression_raises e) false may)), (g.0, h.1.0))
      go (StoresIn o c ∷ k') fits' g = let h = into o c k' fits' g.0 g.1 in (h.0, h.1.1, h.1.0)
      go (f ∷ k') fits' g = absurd g

  -- Null goes to a variable, or into a component, where it counts as stored already.
  nothing_ready : (kind : VariableKind) (kinds : List OperandKind) → names_object (Some kind) ≡ false → typed.Fits known.program (cells_of s.heap) (of_kind kind ∷ kinds) k → EvaluatesTo known nothing k s.heap a.places s.masters → ReadyIn known Running k s.heap a.places (Null ∷ a.operands) s.masters
  nothing_ready kind kinds none fits e = go k fits e
    where
      to : (More : Rooms → Holds → Type 0) (here : Spot) (cleared : Bool) (x : ℕ) (k' : Control) (rooms : Rooms) (holds : Holds) → is_object known.program.variables x ≡ false → Stored (outers known).under s.heap s.masters → Roomed (below known) s.masters rooms → Fit known.program.types known.program.variables (outers known) none_spared s.heap a.places holds → ((h : Holds) → RunsOn known k' rooms h → More rooms h) → Goes (gives known.program.types known.program.variables no_tracks here cleared x nothing holds) (RunsOn known k' rooms) (Raised (assignment_among known nothing) (ways known k' rooms)) → Working known s.heap (slice_set a.places x Null) s.masters More
      to More here cleared x k' rooms holds other stored roomed fit more g = record { rooms = rooms; holds = slice_set holds x hold.Null; stored = stored; roomed = roomed; fit = put_null x other fit; rest = more _ g.0 }

      clears_in : (o : Value) (c : ℕ) (k' : Control) → Clearing known o c k' s.heap a.places s.masters → StoringIn known o c Null k' s.heap a.places s.masters
      clears_in Null c k' h = absurd h
      clears_in (Names o) c k' h = inl (h.0, inl h.1)
      clears_in (Scalar n) c k' h = absurd h
      clears_in (Part object_id base) c k' h = absurd h

      go : (k' : Control) → typed.Fits known.program (cells_of s.heap) (of_kind kind ∷ kinds) k' → EvaluatesTo known nothing k' s.heap a.places s.masters → ReadyIn known Running k' s.heap a.places (Null ∷ a.operands) s.masters
      go [] fits' w = absurd (w.rest)
      go (Stores x ∷ k') fits' w = inl (to (RunsOn known k') w.rest.1.0 w.rest.0 x k' w.rooms w.holds (variable_none known.program s.heap kind kinds x k' none fits') w.stored w.roomed w.fit (λ h r. r) w.rest.1.1)
      go (Declares x ∷ k') fits' w = to (λ rooms holds. HasRoom rooms × RunsOn known k' rooms holds) w.rest.2.0 w.rest.1 x k' w.rooms w.holds (declared_none known.program s.heap kind kinds x k' none fits') w.stored w.roomed w.fit (λ h r. (w.rest.0, r)) w.rest.2.1
      go (StoresIn o c ∷ k') fits' h = clears_in o c k' h
      go (f ∷ k') fits' w = absurd (w.rest)

  -- An allocator without items: what the components hold at first is kept, and then its object is asked for.
  default_ready : (types : List TypeDefinition) (access : ℕ) (kind : VariableKind) (d : DefaultFor known.program.types kind access) (w : Working known s.heap a.places s.masters (Takes known s.heap a.places (allocates_default access) k)) → reached_of types access ≡ reached_components known.program.types access → Defaulted_to access d.components k w.rooms w.holds → Stepped known s.heap Quiet (running (Creates access (words_of types access) ∷ k) (record a { operands = in_front (initial_values named (reached_of types access)) a.operands }) rest s)
  default_ready types access kind d w same h =
      let kinds = d.components in
      let found : reached_of types access ≡ Some kinds = same ∙ d.reached in
      rw found (ready_on known (Creates access (length kinds) ∷ k) a rest s (in_front (map (initial_value named) kinds) a.operands)
      (at_work w (fill_defaults known s.heap a.places access (length kinds) k w.rooms w.holds kinds a.operands
      (record { done = []; spot = record { line = 0; column = 0 }; target = None; into = tt; unlent = λ touches. refl; filled = tt; before = tt; behind = defaults_keep known.program.types (record { line = 0; column = 0 }) None w.holds [] kinds; bare = defaults_bare known.program.types kinds; leads = h; counted = (let one : kinds ≡ h.components = let mine = d.reached in let its = h.reached in cc (mine, its) in ap length one) }))))

  -- What is assigned is evaluated.
  right_fine : (types : List TypeDefinition) → Reaches known types → (right : RightForm) → ((access : ℕ) (items : List ItemForm) → right ≡ allocates access items → BareItems known.program.types items × (known.touches access ≡ false)) → (kinds : List OperandKind) → typed.Fits known.program (cells_of s.heap) kinds (Evaluates right ∷ k) → EvaluatesTo known right k s.heap a.places s.masters → Fine known s.heap s.masters (right_next named types right (running k a rest s))
  right_fine types reaches nothing bare kinds (kind, takes, fits) e = ready_on known k a rest s (Null ∷ a.operands) (nothing_ready kind kinds (takes_none known.program.types known.program.variables kind nothing takes) fits e)
  right_fine types reaches (value_of path) bare kinds fits w = value_fine path.of_record path.root path.selectors path.spot kinds fits w
  right_fine types reaches (allocates access items) bare kinds (kind, takes, fits) w =
      let h = allocating access items kind kinds (bare access items refl).1 takes fits w.rooms w.holds w.rest in
      ready_on known (Fills items ∷ Creates access (words_of types access) ∷ k) a rest s a.operands
      (at_work w (record { done = []; spot = h.0; target = h.1; into = h.2; unlent = λ touches. (let apart = (bare access items refl).1 in absurd (cc (touches, apart))); filled = tt; before = tt; behind = items_keep known.program.types h.0 h.1 w.holds [] items h.3; bare = (bare access items refl).0 h.0 h.1 w.holds h.3; leads = h.4; counted = ap count_of (reaches.0 access ∙ h.4.reached) }))
  right_fine types reaches (allocates_default access) bare kinds (kind, takes, fits) w =
      let d = default_for known.program.types known.program.variables kind access takes in
      let h = defaulting access kind kinds d (takes_none known.program.types known.program.variables kind (allocates_default access) takes) fits w.rooms w.holds w.fit w.rest in
      default_ready types access kind d w (reaches.0 access) h
  right_fine types reaches (computes e) bare kinds (kind, takes, fits) w =
      ready_on known (Computes e ∷ k) a rest s a.operands (at_work w (computing e kind kinds takes fits w.rooms w.holds w.rest))

  -- What is assigned is evaluated, or what is passed.
  pub evaluates_fine : (types : List TypeDefinition) → Reaches known types → (right : RightForm) → ((access : ℕ) (items : List ItemForm) → right ≡ allocates access items → BareItems known.program.types items × (known.touches access ≡ false)) → (kinds : List OperandKind) → typed.Fits known.program (cells_of s.heap) kinds (Evaluates right ∷ k) → EvaluatesTo known right k s.heap a.places s.masters ⊎ Working known s.heap a.places s.masters (PassesTo known s.heap a.places a.operands (Evaluates right ∷ k)) → Fine known s.heap s.masters (right_next named types right (running k a rest s))
  evaluates_fine types reaches right bare kinds fits (inl e) = right_fine types reaches right bare kinds fits e
  evaluates_fine types reaches right bare kinds (kind, takes, fits) (inr w) = passes_fine known k a rest s types kind right takes w

  -- What typing says of a value that is followed on.
  followed_kind : (kinds : List OperandKind) (cs : List ℕ) (v : Value) (below : List Value) → typed.Fits known.program (cells_of s.heap) kinds (Follows cs ∷ k) → AreComputed known.program.types (cells_of s.heap) kinds (v ∷ below) → (from : VariableKind) × (to : VariableKind) × (ks : List OperandKind) × ((o : Id) (object : Object) → v ≡ Names o → object_at s.heap o ≡ Some object → access_of (Some from) ≡ Some object.cell.access) × (selectors_kind known.program.types (Some from) cs ≡ Some to) × typed.Fits known.program (cells_of s.heap) (of_kind to ∷ ks) k
  followed_kind kinds cs v below (ks, from, to, same, leads, plain_kind, fits) computed =
      let has : AreComputed known.program.types (cells_of s.heap) (of_kind from ∷ ks) (v ∷ below) = subst (λ (qs : List OperandKind). AreComputed known.program.types (cells_of s.heap) qs (v ∷ below)) same computed in
      (from, to, ks, (λ o object is found. kind_names known.program.types s.heap from o object (rw is at has.0) found), leads, fits)

  -- A value that is moved is followed on.
  moving : (cs : List ℕ) (v : Value) (below : List Value) (kinds : List OperandKind) → typed.Fits known.program (cells_of s.heap) kinds (Follows cs ∷ k) → AreComputed known.program.types (cells_of s.heap) kinds (v ∷ below) → MayFollow s.heap v → (w : Working known s.heap a.places s.masters (MovesOn known s.heap a.places v cs k)) → MayRaise known true ConstraintError k w.rooms w.holds → Fine known s.heap s.masters (path_next named cs v (running k (record a { operands = below }) rest s))
  moving [] v below kinds fits computed follows w raise = absurd (w.rest)
  moving (c ∷ ds) v below kinds fits computed follows w raise =
      let t = followed_kind kinds (c ∷ ds) v below fits computed in
      let m = w.rest in
      moves_fine m.0.of_record m.0.root m.0.selectors m.0.spot below c ds v (Some t.0) t.1 t.2 follows t.3 t.4 t.5 m.1 (at_work w m.2) (raises_all known v k w.rooms w.holds ds (raise refl))

  -- A path is followed.
  pub follows_fine : (cs : List ℕ) (v : Value) (below : List Value) (kinds : List OperandKind) → typed.Fits known.program (cells_of s.heap) kinds (Follows cs ∷ k) → AreComputed known.program.types (cells_of s.heap) kinds (v ∷ below) → (Working known s.heap a.places s.masters (FollowsFor known s.heap a.places v below cs k) ⊎ HalfFollows known v cs k s.heap a.places s.masters) → Fine known s.heap s.masters (path_next named cs v (running k (record a { operands = below }) rest s))
  follows_fine cs v below kinds fits computed (inr h) = half_fine known a rest s below k cs v h
  follows_fine cs v below kinds fits computed (inl w) = go w.rest.1
    where
      may_read : (ds : List ℕ) → To ((ways known k w.rooms).raised ConstraintError) w.holds → MayRead known k a rest s below v ds w.rooms w.holds
      may_read [] raise = tt
      may_read (d ∷ ds) raise = (w.rest.0, raises_all known v k w.rooms w.holds ds raise)

      go : (FindsFor known s.heap a.places v below cs k w.rooms w.holds ⊎ (MayRaise known true ConstraintError k w.rooms w.holds × (Awaits known s.heap a.places below k w.rooms w.holds ⊎ (MovesOn known s.heap a.places v cs k w.rooms w.holds ⊎ (FillsOn known s.heap a.places v below cs k w.rooms w.holds ⊎ PassesOn known s.heap a.places v below cs k w.rooms w.holds))))) → Fine known s.heap s.masters (path_next named cs v (running k (record a { operands = below }) rest s))
      go (inl for) = finds_fine known a rest s below k cs v (at_work w for) w.rest.0
      go (inr (raise, inl awaits)) = reads_fine known k a rest s below cs v (at_work w awaits) (may_read cs (raise refl))
      go (inr (raise, inr (inl moves))) = moving cs v below kinds fits computed w.rest.0 (at_work w moves) raise
      go (inr (raise, inr (inr (inl fills)))) = filling known a rest s below k cs v w.rest.0 (at_work w fills) raise
      go (inr (raise, inr (inr (inr passes)))) = passed_fine known a rest s below k cs v (at_work w passes) w.rest.0 (raises_behind known v k w.rooms w.holds cs raise)

  -- A value is stored, a variable is created, a line is written.
  pub stores_fine : (x : ℕ) (v : Value) (vs : List Value) → Resumes known s.heap (slice_set a.places x v) s.masters k → Stepped known s.heap Quiet (running k (record a { places = slice_set a.places x v; operands = vs }) rest s)
  stores_fine x v vs r = resumes_on known k (record a { places = slice_set a.places x v; operands = vs }) rest s r Quiet tt

  pub declares_fine : (x : ℕ) (v : Value) (vs : List Value) → Working known s.heap (slice_set a.places x v) s.masters (λ rooms holds. HasRoom rooms × RunsOn known k rooms holds) → Stepped known s.heap Quiet (owned (declared x) (running k (record a { places = slice_set a.places x v; operands = vs }) rest s))
  declares_fine x v vs w = runs_on known k (record a { places = slice_set a.places x v; operands = vs }) rest (owned (declared x) s) (record { rooms = w.rooms; holds = w.holds; stored = stored_owning (declared x) w.stored; roomed = roomed_declares (below known) _ x s.masters w.rooms w.rest.0 w.roomed; fit = w.fit; rest = w.rest.1 }) Quiet tt

  pub writes_fine : (i : Option ℤ) (vs : List Value) → Working known s.heap a.places s.masters (RunsOn known k) → Fine known s.heap s.masters (line_next named i (running k (record a { operands = vs }) rest s))
  writes_fine None vs w = tt
  writes_fine (Some i) vs w = runs_on known k (record a { operands = vs }) rest s w (Line _) tt
