-- A state that stands for the real one, in which some objects that have gone with their collections exist still, has what steps rest on, as the real one has: values are
-- of their kinds, collections nest, and finalization leaves the rest. Bodies that shun the types of those objects run there as in the real one.

use Rattle.std.proofs.Common.{◌≡◌, ℕ, Bool, true, false, not, List, [], ◌∷◌, Some, refl, sym, ap, ◌∙◌, subst, Option, None}
use Rattle.ada_program.specs.declared.program.Program.{Program}
use Rattle.ada_program.specs.declared.program.TypeDefinition.{TypeDefinition}
use Rattle.ada_program.specs.Nested.{Callees, callees_of}
use Rattle.ada_program.specs.ProgramForm.{TypeForm, BodyForm, ProgramForm, program_form, body_forms, seen_in}
use Rattle.ada_program.specs.WellFormed.{is_access}
use Rattle.ada_finalized.proofs.Twice.{operated_exist}
use Rattle.ada_finalized.specs.Law.{NamesExisting, NoOperationRuns, NoOperationRunsOn, NothingBegins}
use Rattle.ada_idle.proofs.Idle.{ControlIsIdle}
use Rattle.ada_idle.proofs.Unadjusted.{AdjustsNone}
use Rattle.ada_meaning.specs.declared.event.Cause.TheVariants.{Assigning}
use Rattle.ada_meaning.specs.declared.event.Halt.{Halt}
use Rattle.ada_meaning.specs.declared.event.Halt.TheVariants.{Erroneous}
use Rattle.ada_meaning.specs.declared.event.Why.TheVariants.{FinalizesTwice}
use Rattle.ada_meaning.specs.declared.state.Id.{Id}
use Rattle.ada_meaning.specs.declared.state.Mode.{Mode}
use Rattle.ada_meaning.specs.declared.state.Mode.TheVariants.{Running, Raising}
use Rattle.ada_meaning.specs.declared.state.Stage.TheVariants.{Existing, Gone}
use Rattle.ada_meaning.specs.declared.state.Value.{Value}
use Rattle.ada_meaning.specs.declared.state.Value.TheVariants.{Names, Null}
use Rattle.ada_meaning.specs.Frame.{Frame, Treatment}
use Rattle.ada_meaning.specs.Frame as frame
use Rattle.ada_meaning.specs.Heap.{Cell}
use Rattle.ada_meaning.specs.Law.{items_of}
use Rattle.ada_meaning.specs.Named.{Object, State, Next, named, object_at, all_alive, next}
use Rattle.ada_meaning.specs.State.{Item, Master, Owned, Activation}
use Rattle.ada_meaning.specs.Step.{halts, moves, tells, asks, picks, older, operands_of, procedure_of, treats_next, first_or}
use Rattle.ada_parts.specs.Task.{Task, next as task_next}
use Rattle.ada_quiet.specs.Apart.{is_tracker}
use Rattle.ada_quiet.specs.Idle.{holds_parts}
use Rattle.ada_reaching.specs.Apart.{Apart}
use Rattle.ada_reaching.specs.Law.{none_hidden}
use Rattle.ada_reaching.specs.Reaching.{AreLow, IsOfShunned, IsReaching, LeftShuns, OperandSeeks, Seeks, none_unnamed}
use Rattle.ada_scopes.proofs.Control.{Nested, standing, beginning, parting, resting, whole_heap}
use Rattle.ada_scopes.proofs.Homes.{Housed}
use Rattle.ada_scopes.proofs.Runs.{Scoped, calls_in}
use Rattle.ada_typed.proofs.Control as typed
use Rattle.ada_typed.proofs.Kept.{behind_call}
use Rattle.ada_typed.proofs.Values.{AreFilled, IsActive, OperandKind}
use Rattle.ada_typed.specs.Holding.{Cells, cells_of}
use Rattle.ada_untouched.proofs.Law.{steps_alike}
use Rattle.ada_untouched.specs.Alike.{NextAlike, is_ghost}
use Rattle.ada_untouched.specs.Untouched.{Untouched}
use Rattle.ada_sound.proofs.CallsApart.{CallApart}
use Rattle.ada_sound.proofs.Departing.{IsLeft, Seen, has_gone, next_member, treated, confined, ended}
use Rattle.ada_sound.proofs.Grounds.{Grounds, IsLeftAlone, IsReached, is_ending, may_free}
use Rattle.ada_sound.proofs.Fits.{Outsiders}
use Rattle.ada_sound.proofs.Invariant.{Control}
use Rattle.ada_sound.proofs.Operating.{IsCalm}
use Rattle.ada_sound.proofs.SeenStates.{departed_ghost, departed_of, real_there, seen_at, seen_cells, seen_control, seen_listed, seen_mode, seen_there, seen_activations}
use Rattle.ada_sound.proofs.Standing.{FinalizesIn, any_type}
use Rattle.ada_sound.proofs.Stored.{AllOut, HasDeparted}

-- Values are of their kinds where the same lies in objects.
module _ (p : ProgramForm) (s : State) (heap : List Object) (same : cells_of heap ≡ cells_of s.heap) where
  abbrev other : State
  other = record s { heap = heap }

  module _ (own : ProgramForm) where
    filled_so : AreFilled own.types (cells_of s.heap) (cells_of s.heap) → AreFilled own.types (cells_of heap) (cells_of heap)
    filled_so filled = subst (λ (cells : Cells). AreFilled own.types cells cells) (sym same) filled

    active_so : (kinds : List OperandKind) → IsActive own.types (cells_of s.heap) own.variables kinds s.activations → IsActive own.types (cells_of heap) own.variables kinds s.activations
    active_so kinds active = subst (λ (cells : Cells). IsActive own.types cells own.variables kinds s.activations) (sym same) active

    ready_so : (kinds : List OperandKind) → typed.Ready own kinds s → typed.Ready own kinds other
    ready_so kinds r = record { filled = filled_so r.filled; active = active_so kinds r.active; runs = r.runs; deep = r.deep }

    jumps_so : (mode : Mode) → typed.Jumps own mode s → typed.Jumps own mode other
    jumps_so mode j = record { filled = filled_so j.filled; active = active_so [] j.active; jumps = j.jumps; deep = j.deep }

    operation_so : (kinds : List OperandKind) → typed.AtOperation own (cells_of s.heap) kinds s.control → typed.AtOperation own (cells_of heap) kinds s.control
    operation_so kinds at = subst (λ (cells : Cells). typed.AtOperation own cells kinds s.control) (sym same) at

    inside_so : typed.TypedIn own s → typed.TypedIn own other
    inside_so (typed.running kinds ready fits) = typed.running kinds (ready_so kinds ready) (subst (λ (cells : Cells). typed.Fits own cells kinds s.control) (sym same) fits)
    inside_so (typed.on_jump mode jumps goes) = typed.on_jump mode (jumps_so mode jumps) (subst (λ (cells : Cells). typed.Goes own cells mode s.control) (sym same) goes)
    inside_so (typed.operated kinds ready at) = typed.operated kinds (ready_so kinds ready) (operation_so kinds at)
    inside_so (typed.out_of_operation e kinds jumps at) = typed.out_of_operation e kinds (jumps_so (Raising e) jumps) (operation_so kinds at)

  typed_so : typed.Typed p s → typed.Typed p other
  typed_so typing = record {
    inside = inside_so (seen_in (procedure_of s.activations) p) typing.inside;
    waiting = subst (λ (cells : Cells). typed.Waiting p cells (procedure_of s.activations) s.control (older s.activations)) (sym same) typing.waiting;
  }

-- What steps rest on.
module _ {types : List ℕ} {item : ℕ} {ghosts : Id → Bool} {s v : State} (seen : Seen types item ghosts s v) where
  -- Values are of their kinds.
  pub seen_typed : (p : ProgramForm) → typed.Typed p s → typed.Typed p v
  seen_typed p typing = subst (λ (z : State). typed.Typed p z) (sym seen.alike.rest) (typed_so p s v.heap (seen_cells seen) typing)

  -- Each object that is in its collection has that among the items: it is no ghost.
  housed_seen : (is : List Item) → Housed s.heap is → Housed v.heap is
  housed_seen is housed o x found listed = housed o x (sym (seen_at seen o (seen_listed seen o x found listed)) ∙ found) listed

  -- Collections nest.
  nested_seen : (forms : List TypeForm) (callees : Callees) (main : Option (List ℕ)) (calling : Bool) → Nested forms callees main calling s → Nested forms callees main calling (record s { heap = v.heap })
  nested_seen forms callees main calling (standing ss w n) = standing ss (whole_heap forms ss s.masters s.heap v.heap (housed_seen (items_of s.masters) w.housed) w) n
  nested_seen forms callees main calling (beginning b) = beginning (record {
    ss = b.ss;
    m = b.m;
    rest = b.rest;
    ds = b.ds;
    fs = b.fs;
    hs = b.hs;
    k = b.k;
    there = b.there;
    masters = b.masters;
    control = b.control;
    runs = b.runs;
    growing = record {
      lacks = b.growing.lacks;
      lacking = b.growing.lacking;
      spare = b.growing.spare;
      first = b.growing.first;
      once = b.growing.once;
      all = b.growing.all;
      left = b.growing.left;
      here = b.growing.here;
      outer = b.growing.outer;
      housed = housed_seen (items_of b.rest) b.growing.housed;
      accesses = b.growing.accesses;
      fit = b.growing.fit;
      own = b.growing.own;
      records = b.growing.records;
      coming = b.growing.coming;
      covers = b.growing.covers;
      bare = b.growing.bare;
      layered = b.growing.layered;
      known = b.growing.known;
    };
    statements = b.statements;
    handlers = b.handlers;
    nests = b.nests;
  })
  nested_seen forms callees main calling (parting ss w runs goes) = parting ss (whole_heap forms ss s.masters s.heap v.heap (housed_seen (items_of s.masters) w.housed) w) runs goes
  nested_seen forms callees main calling (resting ss w none ends) = resting ss (whole_heap forms ss s.masters s.heap v.heap (housed_seen (items_of s.masters) w.housed) w) none ends

  pub seen_scoped : (p : ProgramForm) → Scoped p s → Scoped p v
  seen_scoped p scoped = record {
    kinds = scoped.kinds;
    bodies = scoped.bodies;
    nested = subst (λ (z : State). Nested p.types (callees_of p) None (calls_in p) z) (sym seen.alike.rest)
        (nested_seen p.types (callees_of p) None (calls_in p) scoped.nested);
  }

  -- Bodies that shun some types run.
  module _ (p : ProgramForm) (shuns : ℕ → Bool) (apart : Apart) (behind : Control) (lower : List Master) where
    -- What is sought from the newest operand is the same.
    seeks_seen : (m : Mode) (k : Control) (vs : List Value) → OperandSeeks p.types shuns apart ghosts s.heap m k vs → OperandSeeks p.types shuns apart ghosts v.heap m k vs
    seeks_seen Running k (Names o ∷ vs) seeks = λ y found.
        let x = real_there seen o y found in
        subst (λ (c : Cell Value). Seeks p.types shuns apart (not (ghosts o)) c.access k) (sym x.2) (seeks x.0 x.1)
    seeks_seen m k vs seeks = tt

    -- An object of an access type that is shunned is there in both.
    shunned_seen : (o : Id) → IsOfShunned p.types shuns (object_at s.heap o) → IsOfShunned p.types shuns (object_at v.heap o)
    shunned_seen o g =
        let y = seen_there seen o g.object g.there in
        record {
          object = y.0;
          there = y.1;
          shunned = subst (λ (c : Cell Value). shuns c.access ≡ true) (sym y.2) g.shunned;
          accessed = subst (λ (c : Cell Value). is_access p.types c.access ≡ true) (sym y.2) g.accessed;
        }

    -- No ghost is in its collection.
    low_seen : AreLow ghosts lower v.heap
    low_seen o y ghost found listed = let plain = seen_listed seen o y found listed in absurd (cc (ghost, plain))

    -- So they do in the state that stands for the real one.
    pub reaching_seen : IsReaching p shuns apart ghosts none_unnamed behind lower s → IsReaching p shuns apart ghosts none_unnamed behind lower v
    reaching_seen r = subst (λ (z : State). IsReaching p shuns apart ghosts none_unnamed behind lower z) (sym seen.alike.rest) (record {
      ghosts_there = λ o is. shunned_seen o (r.ghosts_there o is);
      are_ghosts = r.are_ghosts;
      low = low_seen;
      places = r.places;
      operands = r.operands;
      upper = r.upper;
      masters = r.masters;
      control = r.control;
      jumps = r.jumps;
      seeks = seeks_seen s.mode s.control (operands_of s.activations) r.seeks;
    })

-- Where bodies run that shun some types, no ghost is treated next.
pub reaching_untreated :
    (p : ProgramForm) (shuns : ℕ → Bool) (apart : Apart) (ghosts unnamed : Id → Bool) (behind : Control) (lower : List Master) (s : State) → IsReaching p shuns apart ghosts unnamed behind lower s
    → (w : Value) (treatment : Treatment) (tasks : List Task) (k : Control) → s.control ≡ frame.Treats w treatment tasks ∷ k → is_ghost ghosts w ≡ false
reaching_untreated p shuns apart ghosts unnamed behind lower s r w treatment tasks k is =
    (subst (λ (c : Control). LeftShuns p shuns apart ghosts unnamed behind lower (procedure_of s.activations) c r.upper (older s.activations)) is r.control).0.0

-- What halts.
halts_so : (ghosts : Id → Bool) (n m : Next) (halt : Halt) → NextAlike none_hidden ghosts n m → m ≡ halts halt → n ≡ halts halt
halts_so ghosts (halts h) m halt alike is = sym alike ∙ is
halts_so ghosts (moves e after) m halt alike is = absurd (let never = sym alike.1 ∙ is in cc never)
halts_so ghosts (tells request e after) m halt alike is = absurd (let never = sym alike.1 ∙ is in cc never)
halts_so ghosts (asks request answered) m halt alike is = absurd (let never = sym alike.1 ∙ is in cc never)
halts_so ghosts (picks n taken) m halt alike is = absurd (let never = sym alike.1 ∙ is in cc never)

-- Statements are next, or a component is freed (13.11.2).
abbrev pub is_freeing : Frame Value → Bool
is_freeing (frame.Does fs) = true
is_freeing (frame.FreesIn access c) = true
is_freeing f = false

-- So it is with the first of what is left to do.
abbrev pub begins_freeing : Control → Bool
begins_freeing [] = false
begins_freeing (f ∷ k) = is_freeing f

-- What no treatment comes to.
abbrev NeverTwice : Next → Type 0
NeverTwice n = n ≡ halts (Erroneous FinalizesTwice) → ⊥

-- The grounds.
module _ (program : Program) {types : List ℕ} {item : ℕ} {ghosts : Id → Bool} {s v : State} (seen : Seen types item ghosts s v) where
  abbrev tds : List TypeDefinition
  tds = program.types.items

  abbrev bodies : List BodyForm
  bodies = body_forms program

  abbrev forms : List TypeForm
  forms = (program_form program).types

  -- What is treated next: the one state halts as the other one does.
  treats_alike : (w : Value) (treatment : Treatment) (tasks : List Task) (k : Control) → is_ghost ghosts w ≡ false
      → NextAlike none_hidden ghosts (treats_next named tds bodies w treatment tasks (task_next tasks) (record s { mode = Running; control = k })) (treats_next named tds bodies w treatment tasks (task_next tasks) (record v { mode = Running; control = k }))
  unfolding next
  treats_alike w treatment tasks k plain =
      steps_alike tds bodies none_hidden ghosts (record s { mode = Running; control = frame.Treats w treatment tasks ∷ k }) (record v { mode = Running; control = frame.Treats w treatment tasks ∷ k }) plain
      (record { rest = ap (λ (z : State). record z { mode = Running; control = frame.Treats w treatment tasks ∷ k }) (seen.alike.rest); heaps = seen.alike.heaps })

  -- No treatment comes to a value that does not exist, where nothing is freed next, and no ghost is treated.
  finalizes_so :
      (own : List TypeForm) (outer : Outsiders) (m : Mode) (k : Control) → begins_freeing k ≡ false
      → ((w : Value) (treatment : Treatment) (tasks : List Task) (j : Control) → k ≡ frame.Treats w treatment tasks ∷ j → is_ghost ghosts w ≡ false)
      → FinalizesIn any_type own outer tds bodies m k s → FinalizesIn any_type own outer tds bodies m k v
  finalizes_so own outer Running (frame.Does fs ∷ k) none plain f = absurd (cc none)
  finalizes_so own outer Running (frame.FreesIn t c ∷ k) none plain f = absurd (cc none)
  finalizes_so own outer Running (frame.Treats w treatment tasks ∷ k) none plain f = λ twice.
      f (halts_so ghosts (treats_next named tds bodies w treatment tasks (task_next tasks) (record s { mode = Running; control = k })) (treats_next named tds bodies w treatment tasks (task_next tasks) (record v { mode = Running; control = k })) (Erroneous FinalizesTwice)
      (treats_alike w treatment tasks k (plain w treatment tasks k refl)) twice)
  finalizes_so own outer m k none plain f = tt

  -- What the running body may free is the same.
  may_free_so : (t : ℕ) → may_free program v t ≡ may_free program s t
  may_free_so t = ap (λ (z : State). may_free program z t) (seen.alike.rest)

  module _ (grounds : Grounds program s) (reached : IsReached program s) where
    -- No operation of a ghost runs: it does not exist.
    none_of_ghost : (o : Id) → ghosts o ≡ true → NoOperationRunsOn (Names o) s.control
    none_of_ghost o ghost = operated_exist program reached.0 reached.1 s reached.2 o missing
      where
        missing : NamesExisting s.heap (Names o) → ⊥
        missing (p, is, x, found, exists) =
            let d = seen.departed o ghost in
            let same : o ≡ p = cc is in
            let there : object_at s.heap o ≡ Some x = rw same found in
            let object : d.object ≡ x = cc (d.there, there) in
            let gone : x.stage ≡ Gone = rw object at (d.gone) in
            let never : Gone ≡ Existing = sym gone ∙ exists in
            cc never

    -- No operation runs of an object that does not exist there.
    unborn_so : (o : Id) → (NamesExisting v.heap (Names o) → ⊥) → NoOperationRunsOn (Names o) v.control
    unborn_so o none = subst (NoOperationRunsOn (Names o)) (sym (seen_control seen)) (by (ghosts o) refl)
      where
        by : (b : Bool) → ghosts o ≡ b → NoOperationRunsOn (Names o) s.control
        by true ghost = none_of_ghost o ghost
        by false plain = grounds.unborn o (λ there. none (existing_so there))
          where
            existing_so : NamesExisting s.heap (Names o) → NamesExisting v.heap (Names o)
            existing_so (p, is, x, found, exists) =
                let same : o ≡ p = cc is in
                let same_there : ghosts p ≡ false = rw (← same) plain in
                (p, is, x, seen_at seen p same_there ∙ found, exists)

    -- No operation runs of an object that is in its collection there, where nothing of it begins.
    unrun_so : (o : Id) (x : Object) → object_at v.heap o ≡ Some x → x.listed ≡ true → NothingBegins (Names o) v.control → NoOperationRunsOn (Names o) v.control
    unrun_so o x found listed none = subst (NoOperationRunsOn (Names o)) (sym (seen_control seen)) (by (ghosts o) refl)
      where
        by : (b : Bool) → ghosts o ≡ b → NoOperationRunsOn (Names o) s.control
        by true ghost = none_of_ghost o ghost
        by false plain = grounds.unrun o x (sym (seen_at seen o plain) ∙ found) listed (subst (NothingBegins (Names o)) (seen_control seen) none)

    -- Such an object stands, if the running body may free it, while an operation runs: it is no ghost.
    stands_so : (IsCalm (behind_call v.control) → ⊥) → (o : Id) (x : Object) → object_at v.heap o ≡ Some x → x.listed ≡ true → NothingBegins (Names o) v.control → may_free program v x.cell.access ≡ true
        → all_alive x.cell.parts ≡ true
    stands_so runs o x found listed none may =
        grounds.stands (subst (λ (k : Control). IsCalm (behind_call k) → ⊥) (seen_control seen) runs) o x (sym (seen_at seen o (seen_listed seen o x found listed)) ∙ found) listed
        (subst (NothingBegins (Names o)) (seen_control seen) none) (sym (may_free_so x.cell.access) ∙ may)

    -- What has gone with its collection is left alone: of all that is there in the real state the words are out, so it is a ghost; none is treated next; an operation
    -- runs, or a master's objects are being ended; and the running body frees none of their types.
    module _ (out : AllOut s.heap) (untreated : (w : Value) (treatment : Treatment) (tasks : List Task) (k : Control) → s.control ≡ frame.Treats w treatment tasks ∷ k → is_ghost ghosts w ≡ false)
        (inside : is_ending s.control ≡ false → IsCalm (behind_call s.control) → ⊥) (spares : (IsCalm (behind_call s.control) → ⊥) → (t : ℕ) → has_gone types t ≡ true → may_free program s t ≡ false) where
      departed_so : (o : Id) (x : Object) → HasDeparted v.heap o x → IsLeftAlone program v o x
      departed_so o x h =
          let ghost = departed_ghost seen out o x h in
          record {
            unrun = subst (NoOperationRunsOn (Names o)) (sym (seen_control seen)) (none_of_ghost o ghost);
            untreated = λ treatment tasks k is. let plain = untreated (Names o) treatment tasks k (sym (seen_control seen) ∙ is) in cc (plain, ghost);
            inside = subst (λ (k : Control). is_ending k ≡ false → IsCalm (behind_call k) → ⊥) (sym (seen_control seen)) inside;
            unfreed = λ runs.
                may_free_so x.cell.access ∙ spares (subst (λ (k : Control). IsCalm (behind_call k) → ⊥) (seen_control seen) runs) x.cell.access (departed_of seen out o x h).0;
          }

      -- The state that stands for the real one has the grounds as well, where this is so of what is treated next.
      grounds_so :
          ((w : Value) (treatment : Treatment) (tasks : List Task) (k : Control) → s.control ≡ frame.Treats w treatment tasks ∷ k → Untouched tds none_hidden ghosts s)
          → (IsCalm (behind_call v.control) → (forms : List TypeForm) (outer : Outsiders) → FinalizesIn any_type forms outer tds bodies v.mode v.control v) → Grounds program v
      grounds_so untouched finalizes = record {
        well = grounds.well;
        in_use = grounds.in_use;
        frees_own = grounds.frees_own;
        spares_own = grounds.spares_own;
        spares_adjusted = grounds.spares_adjusted;
        lets_nothing_out = grounds.lets_nothing_out;
        obeys = grounds.obeys;
        idle = λ none. record {
          control = subst (ControlIsIdle forms) (sym (seen_control seen)) ((grounds.idle none).control);
          heap = λ o x found. let y = real_there seen o x found in subst (λ (c : Cell Value). holds_parts forms c.access ≡ false) (sym y.2) ((grounds.idle none).heap o y.0 y.1);
        };
        copies = λ none. subst (AdjustsNone forms) (sym (seen_control seen)) (grounds.copies none);
        apart = λ stand. subst (CallApart forms (is_tracker (program_form program))) (sym (seen_control seen)) (grounds.apart stand);
        typed = seen_typed seen (program_form program) grounds.typed;
        nested = seen_scoped seen (program_form program) grounds.nested;
        finalizes = finalizes;
        unborn = λ o none. unborn_so o none;
        unrun = λ o x found listed none. unrun_so o x found listed none;
        stands = λ runs o x found listed none may. stands_so runs o x found listed none may;
        departed = λ o x h. departed_so o x h;
        exist = λ w treatment tasks k is alone twice.
            let here : s.control ≡ frame.Treats w treatment tasks ∷ k = sym (seen_control seen) ∙ is in
            grounds.exist w treatment tasks k here alone
            (halts_so ghosts (next tds bodies s) (next tds bodies v) (Erroneous FinalizesTwice) (steps_alike tds bodies none_hidden ghosts s v (untouched w treatment tasks k here) seen.alike) twice);
        assigned = λ w number tasks first t k is alone twice.
            let here : s.control ≡ frame.Treats w (frame.ends (Assigning number)) tasks ∷ frame.Copies first t ∷ k = sym (seen_control seen) ∙ is in
            grounds.assigned w number tasks first t k here alone
            (halts_so ghosts (next tds bodies s) (next tds bodies v) (Erroneous FinalizesTwice)
            (steps_alike tds bodies none_hidden ghosts s v (untouched w (frame.ends (Assigning number)) tasks (frame.Copies first t ∷ k) here) seen.alike) twice);
        beside = λ runs t k is calls o place target.
            grounds.beside (sym (seen_mode seen) ∙ runs) t k (sym (seen_control seen) ∙ is) calls o place
            (ap (λ (acts : List (Activation Value)). first_or Null (older (operands_of acts))) (sym (seen_activations seen)) ∙ target);
        untreated_end = λ still w u cause tasks k is. grounds.untreated_end (subst NoOperationRuns (seen_control seen) still) w u cause tasks k (sym (seen_control seen) ∙ is);
        untreated_start = λ still w by done tasks k is. grounds.untreated_start (subst NoOperationRuns (seen_control seen) still) w by done tasks k (sym (seen_control seen) ∙ is);
        adjusts_alone = λ still w cause tasks first t k is. grounds.adjusts_alone (subst NoOperationRuns (seen_control seen) still) w cause tasks first t k (sym (seen_control seen) ∙ is);
      }

    -- While an operation runs that frees no objects of those types, and looks at no ghost.
    pub seen_grounds_within :
        AllOut s.heap → Untouched tds none_hidden ghosts s
        → ((w : Value) (treatment : Treatment) (tasks : List Task) (k : Control) → s.control ≡ frame.Treats w treatment tasks ∷ k → is_ghost ghosts w ≡ false)
        → (IsCalm (behind_call s.control) → ⊥) → ((t : ℕ) → has_gone types t ≡ true → may_free program s t ≡ false) → Grounds program v
    seen_grounds_within out untouched untreated runs spares =
        grounds_so out untreated (λ ending. runs) (λ so. spares) (λ w treatment tasks k is. untouched)
        (λ calm forms outer. absurd (runs (subst (λ (k : Control). IsCalm (behind_call k)) (seen_control seen) calm)))

    -- Where no operation runs: what is treated next is no ghost.
    module _ (owned : Owned) (master : ℕ) where
      abbrev Left : Control → Type 0
      Left = IsLeft owned master item ghosts s.heap

      -- Nothing is freed next.
      left_frees_none : (k : Control) → Left k → begins_freeing k ≡ false
      left_frees_none _ (next_member mode k) = refl
      left_frees_none _ (treated access pool o tasks mode k of plain has) = refl
      left_frees_none _ (confined access pool o tasks mode k of plain has) = refl
      left_frees_none _ (ended access pool o mode k of plain has) = refl

      -- A master's objects are being ended.
      left_ending : (k : Control) → Left k → is_ending k ≡ true
      left_ending _ (next_member mode k) = refl
      left_ending _ (treated access pool o tasks mode k of plain has) = refl
      left_ending _ (confined access pool o tasks mode k of plain has) = refl
      left_ending _ (ended access pool o mode k of plain has) = refl

      -- What is treated next is no ghost.
      left_plain : (k : Control) → Left k → (w : Value) (treatment : Treatment) (tasks : List Task) (j : Control) → k ≡ frame.Treats w treatment tasks ∷ j → is_ghost ghosts w ≡ false
      left_plain _ (next_member mode k) w treatment tasks j is = absurd (cc is)
      left_plain _ (treated access pool o left mode k of plain has) w treatment tasks j is = let same : Names o ≡ w = cc is in subst (λ (u : Value). is_ghost ghosts u ≡ false) same plain
      left_plain _ (confined access pool o left mode k of plain has) w treatment tasks j is = absurd (cc is)
      left_plain _ (ended access pool o mode k of plain has) w treatment tasks j is = absurd (cc is)

      -- So the step looks at no ghost.
      left_untouched :
          (m : Mode) (k : Control) → s.mode ≡ m → s.control ≡ k → m ≡ Running → (w : Value) (treatment : Treatment) (tasks : List Task) (j : Control) → k ≡ frame.Treats w treatment tasks ∷ j
          → is_ghost ghosts w ≡ false → Untouched tds none_hidden ghosts s
      left_untouched m k mode control runs w treatment tasks j is plain = rw (mode, runs, control, is) plain

      -- So the state that stands for the real one has its grounds there.
      pub seen_grounds_between : AllOut s.heap → s.mode ≡ Running → IsLeft owned master item ghosts s.heap s.control → IsCalm (behind_call s.control) → Grounds program v
      seen_grounds_between out runs left calm =
          grounds_so out (left_plain s.control left) (λ none. let ending = left_ending s.control left in absurd (cc (none, ending))) (λ so. absurd (so calm))
          (λ w treatment tasks k is. left_untouched s.mode s.control refl refl runs w treatment tasks k is (left_plain s.control left w treatment tasks k is))
          (λ so forms outer.
          subst (λ (m : Mode). FinalizesIn any_type forms outer tds bodies m v.control v) (sym (seen_mode seen))
          (subst (λ (k : Control). FinalizesIn any_type forms outer tds bodies s.mode k v) (sym (seen_control seen))
          (finalizes_so forms outer s.mode s.control (left_frees_none s.control left) (left_plain s.control left) (grounds.finalizes calm forms outer))))
