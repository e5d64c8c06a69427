-- What a frame does of a body that shuns some access types.

use Rattle.std.proofs.Common.{◌≡◌, ◌<◌, ◌≤◌, ◌⊎◌, ℕ, Bool, true, false, List, [], ◌∷◌, ◌++◌, length, map, Option, Some, None, refl, sym, ap, ◌∙◌, inl, inr, subst, arith}
use Rattle.std.specs.Prelude.{int_le, if◌then◌else◌, not, drop}
use Rattle.std.specs.List.{slice_index_or}
use Rattle.std.proofs.lemmas.Bool.{and_parts, or_cases}
use Rattle.ada_program.specs.declared.program.TypeDefinition.{TypeDefinition}
use Rattle.ada_program.specs.Form.{ActualForm}
use Rattle.ada_program.specs.WellFormed.{path_kind}
use Rattle.ada_program.specs.ProgramForm.{type_form}
use Rattle.ada_program.specs.Typed.{width_of, words_of}
use Rattle.ada_parts.specs.declared.tasks.Direction.TheVariants.{WholeFirst}
use Rattle.ada_parts.specs.Task.{Task}
use Rattle.ada_meaning.specs.declared.event.Cause.{Cause}
use Rattle.ada_meaning.specs.declared.event.Cause.TheVariants.{Leaving}
use Rattle.ada_meaning.specs.declared.event.Halt.TheVariants.{Erroneous}
use Rattle.ada_meaning.specs.declared.event.Why.TheVariants.{GivesElsewhere}
use Rattle.ada_meaning.specs.declared.state.Id.{Id}
use Rattle.ada_meaning.specs.declared.state.Mode.{Mode}
use Rattle.ada_meaning.specs.declared.state.Mode.TheVariants.{Running}
use Rattle.ada_meaning.specs.declared.state.Value.{Value}
use Rattle.ada_meaning.specs.declared.state.Value.TheVariants.{Null, Names, Scalar, Part}
use Rattle.ada_meaning.specs.Event.{Event, Back}
use Rattle.ada_meaning.specs.Frame.{Frame, ends}
use Rattle.ada_meaning.specs.Frame as frame
use Rattle.ada_meaning.specs.Heap.{Cell, Found, on_null, on_gone, on_other, finds}
use Rattle.ada_meaning.specs.State.{Activation, Item, Master, Owned, declared, collection, record_object, storage_pool, height, home_of, type_housed}
use Rattle.ada_meaning.specs.Step.{returned as back, operands, operands_of, with_operands, halts, all_tasks, same_pool, at, first_or, older, popped, shorter, put, newest, newest_ones, treating, without_newest, end_next, told_back, given_back, back_next, path_next, taken_out, members_next, item_leave_next, master_leave_next, leave_next, frame_next}
use Rattle.ada_meaning.specs.Named.{Object, State, named, object_at, is_member, members, look, lent, on_object, parted, finished, returned, reads_integer, reads_boolean, reads_null, same, unary_given, binary_given}
use Rattle.ada_untouched.specs.Untouched.{IsInSight}
use Rattle.ada_quiet.specs.Idle.{holds_parts}
use Rattle.ada_reaching.specs.Apart.{IsLeftOf, whole}
use Rattle.ada_reaching.specs.Reaching.{AreOwnedApart, InMasters, IsElsewhere, IsLast, IsOwnedApart, begins_anew, is_leaving, references_at, seeks_nothing}
use Rattle.ada_reaching.specs.Forms.{expression_shuns, condition_shuns, path_shuns, statements_shun, branches_shun, may_follow, may_own}
use Rattle.ada_reaching.specs.Law.{AreApart, FirstHousesIts, GhostsStay, InnermostHousesIts, NewestHousesIts, AllGoOn}
use Rattle.ada_reaching.proofs.Elsewhere.{elsewhere_drop, elsewhere_first, unary_elsewhere, binary_elsewhere, whole_elsewhere}
use Rattle.ada_reaching.proofs.Going.{World, variables_in, Runs, LeftIn, Left, On, GoesRunning, OperandsSeek, ValueSeeks, changed_run, low_there, operands_run, stays, runs_on, sought, popped_runs, put_runs, reaches, none_jumps, newest_seek, confined_seeks}
use Rattle.ada_reaching.proofs.Masters.{declared_goes, in_own, left_run, older_owned, own_in, shorter_run}
use Rattle.ada_reaching.proofs.Members.{IsMember, member_home, member_listed, member_there}
use Rattle.ada_reaching.proofs.Paths.{Sound, Fine, by_ghost, found_there, in_sight, same_object, step_goes, record_goes}
use Rattle.ada_reaching.proofs.Forms.{expression_goes, null_test_goes, links_go, outcome_goes, items_go, copies_go, right_goes, new_goes}
use Rattle.ada_reaching.proofs.Frees.{free_in_goes}
use Rattle.ada_reaching.proofs.Assigns.{put_goes, target_goes, store_goes, record_target_goes, store_record_goes, receive_goes}
use Rattle.ada_reaching.proofs.Calls.{AreParts, IsPart, referred_sight, refers_goes, open_goes, opens_goes, begun_goes, returned_goes}
use Rattle.ada_reaching.proofs.Statements.{decided_goes, repeats_go, turned_goes, counting_goes, ranges_go, exited_goes, line_goes, stmts_go, record_goes_on, declarations_go}
use Rattle.ada_reaching.proofs.Rooted.{FrameIsRooted}
use Rattle.ada_reaching.proofs.Selections.{bare_object}
use Rattle.ada_reaching.proofs.Treats.{is_assigning, assigns_go, awaited_goes, ending_left, treats_goes}

-- One name is named.
same_name : {o q : Id} → Names q ≡ Names o → q ≡ o
same_name e = cc

-- One type is that of both.
same_access : {t u : ℕ} → Some t ≡ Some u → t ≡ u
same_access e = cc

-- What is sought from the newest operand is sought from the value that it is.
pub newest_seeks :
    (w : World) (heap : List Object) (k : List (Frame Value)) (vs : List Value) → OperandsSeek w heap Running k vs → ValueSeeks w heap (first_or Null vs) k
newest_seeks w heap k [] seeks = λ o x e at. absurd (cc)
newest_seeks w heap k (Null ∷ vs) seeks = λ o x e at. absurd (cc)
newest_seeks w heap k (Names q ∷ vs) seeks = λ o x e at. let same : q ≡ o = same_name e in rw (← same) (seeks x (rw same at))
newest_seeks w heap k (Scalar n ∷ vs) seeks = λ o x e at. absurd (cc)
newest_seeks w heap k (Part q place ∷ vs) seeks = λ o x e at. absurd (cc)

-- Where a record is assigned to another one that has controlled parts, the two newest operands refer to these.
abbrev pub RefersTwice : Frame Value → List (Activation Value) → Type 0
RefersTwice (frame.Assigns t) acts =
    IsPart (first_or Null (operands_of (with_operands (older (operands_of acts)) acts))) × IsPart (first_or Null (operands_of acts))
RefersTwice f acts = Unit {0}

module _ (w : World) where
  -- The bodies go on as an object ceases to exist.
  end_goes : (v : Value) (found : Found (Cell Value)) (s : State) → IsInSight w.ghosts v → GoesRunning w s (end_next named v found s)
  end_goes v on_null s sight running r h quiet = tt
  end_goes v on_gone s sight running r h quiet = tt
  end_goes v on_other s sight running r h quiet = tt
  end_goes v (finds cell) s sight running r h quiet =
      runs_on w (record s { heap = on_object finished s.heap v }) running (changed_run w finished v s.activations s.masters s.heap sight r) h quiet

  -- The bodies go on as a pool is told that words go back, or none is.
  told_goes : (pool : Option ℕ) (v : Value) (e : Event Value) (s : State) → GoesRunning w s (told_back named pool v e s)
  told_goes None v e s running r h quiet = runs_on w s running r h quiet
  told_goes (Some pool) v e s running r h quiet = runs_on w s running r h quiet

  -- The bodies go on as words go back to their pool, or to another, which is erroneous.
  given_goes :
      (own : Bool) (v : Value) (cause : Cause) (cell : Cell Value) (s : State) → IsInSight w.ghosts v
      → GoesRunning w s (if own then given_back named v cause cell s else halts (Erroneous GivesElsewhere))
  given_goes true v cause cell s sight running r h quiet =
      told_goes cell.home.pool v (Back v cell.access cell.number cell.home.pool cell.home.subpool cause) (record s { heap = on_object returned s.heap v })
      running (changed_run w returned v s.activations s.masters s.heap sight r) h quiet
  given_goes false v cause cell s sight running r h quiet = tt

  -- The bodies go on as words go back.
  back_goes :
      (v : Value) (cause : Cause) (pool : Option ℕ) (found : Found (Cell Value)) (s : State) → IsInSight w.ghosts v
      → GoesRunning w s (back_next named v cause pool found s)
  back_goes v cause pool on_null s sight running r h quiet = tt
  back_goes v cause pool on_gone s sight running r h quiet = tt
  back_goes v cause pool on_other s sight running r h quiet = tt
  back_goes v cause pool (finds cell) s sight running r h quiet = given_goes (same_pool pool cell.home.pool) v cause cell s sight running r h quiet

  -- The bodies go on as components are followed from the newest operand.
  follow_goes :
      (cs : List ℕ) (v : Value) (s : State) → Fine w s → IsElsewhere w.ghosts w.unnamed v → ValueSeeks w s.heap v (frame.Follows cs ∷ s.control) → Runs w s
      → Left w s.control → is_leaving s.control ≡ false → AllGoOn (On w) (path_next named cs v s)
  follow_goes [] v s fine other seeks r h stands = sought w v s other r h stands seeks
  follow_goes (c ∷ cs) v s fine other seeks r h stands =
      step_goes w v c cs s fine (λ o x e at. let leads = seeks o x e at in (leads.1, leads.2)) r h stands

  -- The bodies go on as the call of one ends, which is not the outermost one (6.5).
  returns_go :
      (actuals : List ActualForm) (references : List Value) (s : State) → (IsLast w.behind (frame.Returns actuals references) s.control → ⊥) → AreParts references
      → Left w (frame.Returns actuals references ∷ s.control) → Runs w s → On w (back named actuals references s)
  returns_go actuals references s on parts (inl (last, none)) r = absurd (on last)
  returns_go actuals references s on parts (inr inner) r =
      returned_goes w s (frame.Returns actuals references) r inner s.mode actuals references refl parts inner.references

  -- A member of an item of the bodies' own is no ghost, since each ghost has its home in one of those before.
  member_sight :
      (heap : List Object) → GhostsStay w.ghosts w.before heap → (item : ℕ) (u : Value) → IsMember heap item u → height w.lower ≤ item → IsInSight w.ghosts u
  member_sight heap same item u f own =
      subst (λ (v : Value). IsInSight w.ghosts v) (sym f.named_so)
      (by_ghost w heap same f.name (w.ghosts f.name) refl
      (λ is.
      let low = low_there w heap same f.name f.object is f.there (member_listed item f.object f.member) in
      let home = member_home item f.object f.member in
      omega (arith, own, low, home)))

  -- The innermost master is being left, in front of what begins anew.
  module _ (tds : List TypeDefinition) (own : w.apart.definitions ≡ tds) (mode : Mode) (s : State) (running : s.mode ≡ Running) (r : Runs w s)
      (anew : begins_anew s.control ≡ true)
      (h : InMasters w.apart w.lower (frame.Leaves mode) w.upper (λ (ns : List Master). LeftIn w ns s.control)) where
    -- They may end an object of a type, or nothing is to be done for one.
    abbrev IsEnding : ℕ → Type 0
    IsEnding t = (w.apart.ends t ≡ true) ⊎ (all_tasks tds t WholeFirst ≡ [])

    -- So it is with what they may own.
    owned_ends : (t : ℕ) → may_own w.apart t ≡ true → IsEnding t
    owned_ends t may = elim (or_cases (w.apart.ends t) (not (holds_parts (map type_form w.apart.definitions) t)) may) [
      | inl may_so ↦ inl may_so
      | inr bare ↦ inr (bare_object tds (map type_form w.apart.definitions) t WholeFirst (ap (λ (ts : List TypeDefinition). map type_form ts) (sym own)) bare)
    ]

    -- What they do as such an object goes, and then the master is left.
    abbrev going : Cause → Value → List (Frame Value)
    going cause v = frame.Ends v ∷ frame.GivesBack v cause None ∷ frame.Leaves mode ∷ s.control

    -- It is finalized first, if anything is to be done for it.
    taken_left :
        (t : ℕ) (cause : Cause) (v : Value) → is_assigning cause ≡ false → IsEnding t → IsInSight w.ghosts v
        → Left w (treating v (ends cause) (all_tasks tds t WholeFirst) (going cause v))
        × (seeks_nothing (treating v (ends cause) (all_tasks tds t WholeFirst) (going cause v)) ≡ true)
    taken_left t cause v other (inl may) sight =
        let all : IsLeftOf w.apart.definitions WholeFirst t (all_tasks tds t WholeFirst) =
        subst (λ (ts : List TypeDefinition). IsLeftOf w.apart.definitions WholeFirst t (all_tasks ts t WholeFirst)) own whole in
        ending_left w v cause (all_tasks tds t WholeFirst) (going cause v) other sight (t, inl (may, all)) (sight, refl, (sight, refl, (tt, anew, h))) refl
    taken_left t cause v other (inr none) sight =
        subst
        (λ (tasks : List Task). Left w (treating v (ends cause) tasks (going cause v)) × (seeks_nothing (treating v (ends cause) tasks (going cause v)) ≡ true))
        (sym none) ((sight, refl, (sight, refl, (tt, anew, h))), refl)

    -- The bodies go on as an object is taken out of the collection of an item, which they may end: it is finalized, ends and goes back before the master is
    -- left.
    object_goes :
        (t : ℕ) (cause : Cause) (v : Value) (found : Found (Cell Value)) → is_assigning cause ≡ false → look s.heap v ≡ found → IsEnding t → IsInSight w.ghosts v
        → ((o : Id) (x : Object) → v ≡ Names o → object_at s.heap o ≡ Some x → t ≡ x.cell.access)
        → On w (taken_out named tds cause None v found (at (frame.Leaves mode ∷ s.control) s))
    object_goes t cause v on_null other is may sight of =
        runs_on w (taken_out named tds cause None v on_null (at (frame.Leaves mode ∷ s.control) s)) running
        (changed_run w parted v s.activations s.masters s.heap sight r) (sight, refl, (sight, refl, (tt, anew, h))) refl
    object_goes t cause v on_gone other is may sight of =
        runs_on w (taken_out named tds cause None v on_gone (at (frame.Leaves mode ∷ s.control) s)) running
        (changed_run w parted v s.activations s.masters s.heap sight r) (sight, refl, (sight, refl, (tt, anew, h))) refl
    object_goes t cause v on_other other is may sight of =
        runs_on w (taken_out named tds cause None v on_other (at (frame.Leaves mode ∷ s.control) s)) running
        (changed_run w parted v s.activations s.masters s.heap sight r) (sight, refl, (sight, refl, (tt, anew, h))) refl
    object_goes t cause v (finds cell) other is may sight of =
        let f = found_there s.heap v cell is in
        let access : t ≡ cell.access = of f.name f.object f.named_so f.there ∙ ap (λ (own : Cell Value). own.access) f.own in
        let left = taken_left cell.access cause v other (subst (λ (u : ℕ). IsEnding u) access may) sight in
        runs_on w (taken_out named tds cause None v (finds cell) (at (frame.Leaves mode ∷ s.control) s)) running
        (changed_run w parted v s.activations s.masters s.heap sight r) left.0 left.1

    module _ (m : Master) (ms : List Master) (is : w.upper ≡ m ∷ ms) (items : AreOwnedApart w.apart w.lower m.items) (left : LeftIn w ms s.control) where
      -- The bodies go on once the newest item of the innermost master has gone.
      shorter_goes : On w (record (at (frame.Leaves mode ∷ s.control) s) { masters = shorter s.masters })
      shorter_goes =
          runs_on (record w { upper = record m { items = older m.items } ∷ ms }) (record (at (frame.Leaves mode ∷ s.control) s) { masters = shorter s.masters })
          running (shorter_run w s.activations s.masters s.heap r m ms is) (tt, anew, (older_owned w.apart w.lower m.items items, left)) refl

      -- The bodies go on as one of the members of an item that is a record object is taken out, or as the item goes that has none.
      members_go :
          (t : ℕ) (cause : Cause) (item : ℕ) (vs : List Value) → is_assigning cause ≡ false → members s.heap item ≡ vs → IsEnding t → height w.lower ≤ item
          → ((o : Id) (x : Object) → object_at s.heap o ≡ Some x → is_member item x ≡ true → Some t ≡ Some x.cell.access)
          → AllGoOn (On w) (members_next named tds cause None vs (at (frame.Leaves mode ∷ s.control) s))
      members_go t cause item [] other are may low of = shorter_goes
      members_go t cause item (v ∷ vs) other are may low of = λ i below.
          let u = slice_index_or (v ∷ vs) i Null in
          let f : IsMember s.heap item u =
          subst (λ (us : List Value). IsMember s.heap item (slice_index_or us i Null)) are
          (member_there s.heap item i (subst (λ (us : List Value). i < length us) (sym are) below)) in
          object_goes t cause u (look s.heap u) other refl may (member_sight s.heap r.same item u f low)
          (λ o x named_so there.
          let same : f.object ≡ x = same_object (sym f.there ∙ ap (object_at s.heap) (same_name (sym f.named_so ∙ named_so)) ∙ there) in
          same_access (of f.name f.object f.there f.member) ∙ ap (λ (y : Object). y.cell.access) same)

      -- The bodies go on as the newest item of the innermost master goes.
      item_goes :
          (number : ℕ) (item : Item) (what : Owned) → IsOwnedApart w.apart what → height w.lower ≤ item.number
          → ((o : Id) (x : Object) → object_at s.heap o ≡ Some x → is_member item.number x ≡ true → type_housed what ≡ Some x.cell.access)
          → AllGoOn (On w) (item_leave_next named tds number item what (at (frame.Leaves mode ∷ s.control) s))
      item_goes number item (declared x) may low of = shorter_goes
      item_goes number item (collection access pool) may low of = absurd may
      item_goes number item (record_object t) may low of =
          members_go t (Leaving number item.number) item.number (members s.heap item.number) refl refl (owned_ends t may) low of
      item_goes number item (storage_pool declaration pool) may low of = absurd may

      -- So they do, or the master has been left, where it owns nothing more.
      master_goes :
          (others : List Item) → m.items ≡ others → NewestHousesIts s.heap others → AllGoOn (On w) (master_leave_next named tds mode m.number others s)
      master_goes [] are houses =
          stays (record w { upper = ms }) (record s { masters = older s.masters; mode = mode }) (left_run w s.activations s.masters s.heap r m ms is) left anew
      master_goes (item ∷ others) are houses =
          let first = subst (λ (all : List Item). AreOwnedApart w.apart w.lower all) are items in
          item_goes m.number item item.owned first.0.0 first.0.1 houses

    -- The bodies go on as the innermost master is being left.
    leave_goes :
        (upper : List Master) → w.upper ≡ upper → InMasters w.apart w.lower (frame.Leaves mode) upper (λ (ns : List Master). LeftIn w ns s.control)
        → InnermostHousesIts s.heap s.masters → AllGoOn (On w) (leave_next named tds mode s.masters s)
    leave_goes [] is left houses = absurd left
    leave_goes (m ∷ ms) is left houses =
        let owns : s.masters ≡ m ∷ (ms ++ w.lower) = r.owns ∙ ap (λ (upper : List Master). upper ++ w.lower) is in
        subst (λ (masters : List Master). AllGoOn (On w) (leave_next named tds mode masters s)) (sym owns)
        (master_goes m ms is left.0 left.1 m.items refl (subst (λ (masters : List Master). InnermostHousesIts s.heap masters) owns houses))

  module _ (tds : List TypeDefinition) (known : map type_form tds ≡ w.p.types) (are_apart : AreApart w.p tds w.shuns w.apart) where
    -- The bodies go on by what a frame does.
    pub frame_goes :
        (f : Frame Value) (s : State) → Sound w s → (IsLast w.behind f s.control → ⊥) → AreParts (references_at f) → RefersTwice f s.activations → Left w (f ∷ s.control)
        → FirstHousesIts (f ∷ s.control) s.heap s.masters
        → FrameIsRooted w.p.types (variables_in w) f → ValueSeeks w s.heap (newest named s) (f ∷ s.control) → s.mode ≡ Running → Runs w s
        → AllGoOn (On w) (frame_next named tds w.p.bodies f s)
    frame_goes (frame.Elaborates ds fs hs) s sound on parts pair h houses root seeks running r =
        let left = in_own w.apart w.lower (frame.Elaborates ds fs hs) w.upper (λ (ns : List Master). LeftIn w ns s.control) refl h.2 in
        declarations_go w tds known are_apart.own ds fs hs s h.0 r left h.1
    frame_goes (frame.Does fs) s sound on parts pair h houses root seeks running r = stmts_go w tds known are_apart fs s sound h.0 root r h.2 h.1
    frame_goes (frame.Decides fs branches) s sound on parts pair h houses root seeks running r =
        let two = and_parts (statements_shun w.p.types w.shuns w.apart (variables_in w) fs)
        (branches_shun w.p.types w.shuns w.apart (variables_in w) branches) h.0 in
        decided_goes w fs branches (reads_boolean (newest named s)) (popped s) two.0 two.1 (popped_runs w s r) h.2 h.1
    frame_goes (frame.Repeats condition fs) s sound on parts pair h houses root seeks running r =
        let two = and_parts (condition_shuns w.p.types w.shuns w.apart (variables_in w) condition)
        (statements_shun w.p.types w.shuns w.apart (variables_in w) fs) h.0 in
        repeats_go w condition fs s two.0 two.1 r h.2 h.1
    frame_goes (frame.Turns condition fs) s sound on parts pair h houses root seeks running r =
        let two = and_parts (expression_shuns w.p.types w.shuns w.apart (variables_in w) condition)
        (statements_shun w.p.types w.shuns w.apart (variables_in w) fs) h.0 in
        turned_goes w condition fs (reads_boolean (newest named s)) (popped s) two.0 two.1 (popped_runs w s r) h.2 h.1
    frame_goes (frame.Ranges x fs) s sound on parts pair h houses root seeks running r =
        ranges_go w x fs (reads_integer (newest named (popped s))) (reads_integer (newest named s)) (popped (popped s)) h.0
        (popped_runs w (popped s) (popped_runs w s r)) h.2 h.1
    frame_goes (frame.Counts x value last fs) s sound on parts pair h houses root seeks running r =
        counting_goes w (int_le value last) x value last fs s h.0 r h.2 h.1
    frame_goes frame.Exits s sound on parts pair h houses root seeks running r =
        exited_goes w (reads_boolean (newest named s)) (popped s) (popped_runs w s r) h.2 h.1
    frame_goes (frame.Handles hs) s sound on parts pair h houses root seeks running r = stays w s r h.2 h.1
    frame_goes frame.Closes s sound on parts pair h houses root seeks running r =
        let left = in_own w.apart w.lower frame.Closes w.upper (λ (ns : List Master). LeftIn w ns s.control) refl h.2 in
        runs_on w (at (frame.Leaves Running ∷ s.control) s) running r
        (tt, h.1, own_in w.apart w.lower (frame.Leaves Running) w.upper (λ (ns : List Master). LeftIn w ns s.control) refl left) refl
    frame_goes (frame.Leaves mode) s sound on parts pair h houses root seeks running r =
        leave_goes tds are_apart.own mode s running r h.1 h.2 w.upper refl h.2 houses
    frame_goes (frame.Calls procedure callee actuals) s sound on parts pair h houses root seeks running r =
        begun_goes w procedure callee actuals s h.0.0 h.0.1 r h.2 h.1
    frame_goes (frame.Returns actuals references) s sound on parts pair h houses root seeks running r = returns_go actuals references s on parts h r
    frame_goes (frame.Evaluates right) s sound on parts pair h houses root seeks running r = right_goes w tds right s sound h.0 root r h.2 h.1
    frame_goes (frame.Computes e) s sound on parts pair h houses root seeks running r = expression_goes w e s sound h.0 root r h.2 h.1
    frame_goes (frame.Follows cs) s sound on parts pair h houses root seeks running r =
        follow_goes cs (newest named s) (popped s) sound.filled (elsewhere_first w.ghosts w.unnamed (operands s) r.operands) seeks
        (popped_runs w s r) h.2 h.1
    frame_goes (frame.TestsNull equal) s sound on parts pair h houses root seeks running r =
        null_test_goes w equal (reads_null (newest named s)) (popped s) (popped_runs w s r) h.2 h.1
    frame_goes (frame.Refers q) s sound on parts pair h houses root seeks running r =
        let two = and_parts (path_shuns w.p.types w.shuns w.apart (variables_in w) q.object)
        (may_follow w.shuns (path_kind w.p.types (variables_in w) q.object)) h.0 in
        record_goes w q root.0 (λ place. frame.RefersIn place q.record_type) s sound root.1 two.0 (ap (may_follow w.shuns) (sym root.2) ∙ two.1) r
        (λ place. (tt, h.1, h.2)) (λ place. refl) (λ may u place is_may. is_may)
    frame_goes (frame.RefersIn place record_type) s sound on parts pair h houses root seeks running r =
        refers_goes w (newest named s) place (width_of tds record_type) (look s.heap (newest named s)) (popped s)
        (in_sight w s.heap r.same (newest named s) seeks)
        (elsewhere_first w.ghosts w.unnamed (operands s) r.operands) (popped_runs w s r) h.2 h.1
    frame_goes (frame.Opens path) s sound on parts pair h houses root seeks running r = open_goes w path.selectors path.root root.0 s sound root.1 h.0 r h.2 h.1
    frame_goes (frame.OpensIn c) s sound on parts pair h houses root seeks running r =
        opens_goes w (newest named s) c (popped s) sound.filled (in_sight w s.heap r.same (newest named s) seeks)
        (elsewhere_first w.ghosts w.unnamed (operands s) r.operands)
        (popped_runs w s r) h.2 h.1
    frame_goes (frame.Continues links) s sound on parts pair h houses root seeks running r = links_go w links s h.0 r h.2 h.1
    frame_goes (frame.Applies operator) s sound on parts pair h houses root seeks running r =
        outcome_goes w (binary_given operator (newest named (popped s)) (newest named s)) (popped (popped s))
        (binary_elsewhere w.ghosts w.unnamed operator (newest named (popped s)) (newest named s)) (popped_runs w (popped s) (popped_runs w s r)) h.2 h.1
    frame_goes (frame.AppliesAlone operator) s sound on parts pair h houses root seeks running r =
        outcome_goes w (unary_given operator (newest named s)) (popped s) (unary_elsewhere w.ghosts w.unnamed operator (newest named s)) (popped_runs w s r) h.2 h.1
    frame_goes (frame.Fills items) s sound on parts pair h houses root seeks running r = items_go w items s sound h.0 root r h.2 h.1
    frame_goes (frame.Copies c record_type) s sound on parts pair h houses root seeks running r =
        copies_go w (newest named s) c (width_of tds record_type) (popped s) sound.filled (popped_runs w s r) h.2 h.1
    frame_goes (frame.Creates access count) s sound on parts pair h houses root seeks running r =
        new_goes w tds known are_apart.own access count (words_of tds access) (home_of access s.masters) s h.0 r h.2 h.1
    frame_goes (frame.Stores x) s sound on parts pair h houses root seeks running r =
        put_goes w x (newest named s) (popped s) (elsewhere_first w.ghosts w.unnamed (operands s) r.operands) (popped_runs w s r) h.2 h.1
    frame_goes (frame.Targets c right) s sound on parts pair h houses root seeks running r =
        target_goes w (newest named s) c right (popped s) seeks h.0 (popped_runs w s r) h.2 h.1
    frame_goes (frame.StoresIn o c) s sound on parts pair h houses root seeks running r =
        store_goes w o c (newest named s) (look s.heap o) (popped s) h.0 (popped_runs w s r) h.2 h.1
    frame_goes (frame.TargetsRecord c record_type items) s sound on parts pair h houses root seeks running r =
        record_target_goes w (newest named s) c (width_of tds record_type) items (look s.heap (newest named s)) (popped s)
        (in_sight w s.heap r.same (newest named s) seeks) h.0 (popped_runs w s r) h.2 h.1
    frame_goes (frame.StoresRecord o c count) s sound on parts pair h houses root seeks running r =
        store_record_goes w o c count (look s.heap o) s h.0 r h.2 h.1
    frame_goes (frame.Assigns record_type) s sound on parts pair h houses root seeks running r =
        let more = popped s in
        let source = newest named s in
        let target = newest named more in
        let from = elsewhere_first w.ghosts w.unnamed (operands s) r.operands in
        let once = popped_runs w s r in
        assigns_go w tds are_apart record_type target source (same target source) (popped more) h.0
        (referred_sight w.ghosts w.unnamed target pair.0 (elsewhere_first w.ghosts w.unnamed (operands more) once.operands))
        (referred_sight w.ghosts w.unnamed source pair.1 from) (whole_elsewhere w.ghosts w.unnamed w.are source from) running (popped_runs w more once)
        h.2 h.1
    frame_goes (frame.Receives c) s sound on parts pair h houses root seeks running r =
        receive_goes w (newest named s) c (look s.heap (newest named s)) (popped s) (in_sight w s.heap r.same (newest named s) seeks) (popped_runs w s r) h.2 h.1
    frame_goes (frame.FreesIn access c) s sound on parts pair h houses root seeks running r =
        free_in_goes w tds are_apart.own access (newest named s) c (popped s) sound.filled seeks (popped_runs w s r) h.2 h.1
    frame_goes (frame.Declares x) s sound on parts pair h houses root seeks running r =
        declared_goes w x (put x (newest named s) (popped s)) w.upper refl h.2
        (put_runs w x (newest named s) (popped s) (elsewhere_first w.ghosts w.unnamed (operands s) r.operands) (popped_runs w s r)) h.1
    frame_goes (frame.DeclaresRecord x t) s sound on parts pair h houses root seeks running r =
        let count = words_of tds t in
        record_goes_on w tds known are_apart.own x t (newest_ones named count s) (without_newest named count s) w.upper refl h.0 h.2
        (operands_run w (drop count (operands s)) s.activations s.masters s.heap (elsewhere_drop w.ghosts w.unnamed count (operands s) r.operands) r) h.1
    frame_goes (frame.Treats v treatment tasks) s sound on parts pair h houses root seeks running r =
        treats_goes w tds are_apart v treatment tasks s h.0.0 h.0.1 seeks running r h.2 h.1
    frame_goes (frame.Awaits v by done of part tasks) s sound on parts pair h houses root seeks running r =
        awaited_goes w v by done of part tasks (look s.heap v) s h.0.0 h.0.1 r h.2 h.1
    frame_goes frame.Confines s sound on parts pair h houses root seeks running r =
        reaches w s r h.2 (none_jumps s.mode s.control running)
        (newest_seek w s.heap s.mode s.control (operands s) (λ o x is at. confined_seeks w (not (w.ghosts o)) s.control x.cell.access h.1 (seeks o x is at)))
    frame_goes (frame.Resumes mode) s sound on parts pair h houses root seeks running r = stays w (record s { mode = mode }) r h.2 h.1
    frame_goes frame.Writes s sound on parts pair h houses root seeks running r =
        line_goes w (reads_integer (newest named s)) (popped s) (popped_runs w s r) h.2 h.1
    frame_goes (frame.Ends v) s sound on parts pair h houses root seeks running r = end_goes v (look s.heap v) s h.0 running r h.2 h.1
    frame_goes (frame.GivesBack v cause pool) s sound on parts pair h houses root seeks running r =
        back_goes v cause pool (lent s.heap v) s h.0 running r h.2 h.1
    frame_goes (frame.Clears x) s sound on parts pair h houses root seeks running r = put_goes w x Null s tt r h.2 h.1
    frame_goes (frame.ClearsIn o c) s sound on parts pair h houses root seeks running r = store_goes w o c Null (look s.heap o) s h.0 r h.2 h.1
