-- What is treated exists; and no treatment that is inside of all operations of its object that run comes to a value that does not exist.

use Rattle.std.proofs.Common.{◌≡◌, ℕ, ℤ, ◌+◌, ◌≤◌, ◌==◌, Bool, true, false, if◌then◌else◌, List, [], ◌∷◌, length, Option, Some, None, refl, sym, ap, ◌∙◌, subst, arith}
use Rattle.std.specs.List.{slice_get}
use Rattle.ada_program.specs.declared.program.Exception.{Exception}
use Rattle.ada_program.specs.declared.program.Program.{Program}
use Rattle.ada_program.specs.declared.program.TypeDefinition.{TypeDefinition}
use Rattle.ada_program.specs.Controlled.{operations_of, procedure_number, shapes_of}
use Rattle.ada_program.specs.ProgramForm.{BodyForm, body_forms}
use Rattle.ada_parts.specs.Shape.{Shape}
use Rattle.ada_parts.specs.Part.{Part}
use Rattle.ada_parts.specs.Task.{Task, performs, treats, next as task_next}
use Rattle.ada_parts.specs.Law.{parts_left}
use Rattle.ada_meaning.specs.declared.state.Value.{Value}
use Rattle.ada_meaning.specs.declared.state.Mode.{Mode}
use Rattle.ada_meaning.specs.declared.state.Mode.TheVariants.{Running, Raising, Exiting, Returning}
use Rattle.ada_meaning.specs.declared.event.Birth.{Birth}
use Rattle.ada_meaning.specs.declared.event.Birth.TheVariants.{Creation, Copy, Adjustment}
use Rattle.ada_meaning.specs.declared.event.Cause.{Cause}
use Rattle.ada_meaning.specs.declared.event.Cause.TheVariants.{Assigning}
use Rattle.ada_meaning.specs.declared.event.Halt.TheVariants.{Erroneous, Stuck}
use Rattle.ada_meaning.specs.declared.event.Why.TheVariants.{FinalizesTwice}
use Rattle.ada_meaning.specs.Event.{Finalized, Quiet}
use Rattle.ada_meaning.specs.Frame.{Frame, Treatment, begins, ends}
use Rattle.ada_meaning.specs.Frame as frame
use Rattle.ada_meaning.specs.Heap.{PartState, Cell, Found, on_null, on_gone, on_other, finds}
use Rattle.ada_meaning.specs.Step.{halts, picks, at, direction_of, picked_task, treating, treated_on, beginning as operation_of, operation_next, part_reference, begun_next, ended_next, finalized_next, performed_next, treats_next, born_next, awaited_next, undo_next, broken_next, mode_next}
use Rattle.ada_meaning.specs.Named.{Object, State, Next, named, next, look, existing, seen, finalize}
use Rattle.ada_meaning.specs.Run.{Event, Run, first_state}
use Rattle.ada_finalized.specs.Law.{waits_for_operation, NoOperationRuns, NeverFinalizesTwice, NoOperationRunsOn, TreatedValuesExist, TreatsInside, InnerValuesExist, OperationsEndWell, NamesExisting, TreatedExist, TreatedObjectsExist, OperatedObjectsExist}
use Rattle.ada_finalized.proofs.Counts.{one_if, count}
use Rattle.ada_finalized.proofs.Ranks.{Heap}
use Rattle.ada_finalized.proofs.Doings.{name, same_name, Doing, Treating, Ending, doings, Calm, rest, Of, Fewer, fewer_treating, alike, fewer_gains, fewer_losses, on_same, gains, losses, Lasts}
use Rattle.ada_finalized.proofs.Stacks.{Acts, Control, code, guard, finalization, Stack, nothing, calm, comes_back, operates, awaits, confines, to_end, to_copy, storing_then, ending_then, of_treating}
use Rattle.ada_finalized.proofs.Claims.{Claimed}
use Rattle.ada_finalized.proofs.Invariant.{Exists, IsThere, Fine, Inv, AssignsThen, Stands, runs, finding, passing, ends_operation, beginning, ending, leaving, storing}
use Rattle.ada_finalized.proofs.Going.{next_is, alive_of, one_here}
use Rattle.ada_finalized.proofs.Runs.{past_then, last_holds}
use Rattle.ada_finalized.proofs.Standing.{none_runs_on}
use Rattle.ada_finalized.proofs.Inside.{counted, none_inside, treating_inside, keeps}

-- What comes next does not halt so.
abbrev NotTwice : Next → Type 0
NotTwice n = n ≡ halts (Erroneous FinalizesTwice) → ⊥

-- What exists is found.
exists_found : (xs : Heap) (v : Value) → Exists xs v → (x : Object) × (look xs v ≡ finds x.cell)
exists_found xs v (o, (is, (x, (at_o, stage)))) = (x, ap (look xs) is ∙ ap seen at_o ∙ ap (existing x) stage)

pick_not_twice : (none : Bool) (n : ℕ) (taking : ℕ → State) → NotTwice (if none then halts Stuck else picks n taking)
pick_not_twice true n taking e = cc e
pick_not_twice false n taking e = cc e

module _ (types : List TypeDefinition) (bodies : List BodyForm) (past : List Event) (s : State) (inv : Inv types past s.heap s.next (doings s.control)) where
  -- What is treated exists.
  pub treated_there : (v : Value) (treatment : Treatment) (tasks : List Task) (k : Control) → s.control ≡ frame.Treats v treatment tasks ∷ k → Exists s.heap v
  treated_there v treatment tasks k is = (subst (Inv types past s.heap s.next) (ap doings is) inv).there.0

  -- The body of an operation begins, or there is none.
  operation_not_twice :
      (procedure : ℕ) (found : Option BodyForm) (reference : Value) (behind : Control) (shown : Event) (u : State)
      → NotTwice (operation_next named procedure found reference behind shown u)
  operation_not_twice procedure None reference behind shown u e = cc e
  operation_not_twice procedure (Some b) reference behind shown u e = cc e

  begun_not_twice :
      (v : Value) (by : Birth) (done : List Part) (of n : ℕ) (tasks : List Task) (operation : Option ℕ) (found : Option PartState) (u : State)
      → NotTwice (begun_next named bodies v by done of n tasks operation found u)
  begun_not_twice v by done of n tasks operation None u e = cc e
  begun_not_twice v by done of n tasks None (Some p) u e = cc e
  begun_not_twice v by done of n tasks (Some procedure) (Some p) u e =
      operation_not_twice procedure (slice_get bodies procedure) (part_reference named v n p) (frame.Awaits v by done of n tasks ∷ u.control) Quiet u e

  begins_not_twice :
      (v : Value) (by : Birth) (done : List Part) (task : Task) (tasks : List Task) (k : Control)
      → s.control ≡ frame.Treats v (begins by done) (task ∷ tasks) ∷ k
      → NotTwice (treats_next named types bodies v (begins by done) (task ∷ tasks) (task_next (task ∷ tasks)) (at k s))
  begins_not_twice v by done (treats cs) tasks k is =
      pick_not_twice (length cs == 0) (length cs) (λ i. treated_on named v (begins by done) (picked_task (shapes_of types) (direction_of (begins by done)) (treats cs ∷ tasks) i) (at k s))
  begins_not_twice v by done (performs of n) tasks k is =
      let x = exists_found s.heap v (treated_there v (begins by done) (performs of n ∷ tasks) k is) in
      subst (λ (found : Found (Cell Value)). NotTwice (performed_next named types bodies v (begins by done) of n tasks found (at k s))) (sym x.1)
      (begun_not_twice v by done of n tasks (operation_of by (operations_of types of)) (slice_get x.0.cell.parts n) (at k s))

  -- A value of a part is to be finalized.
  ended_not_twice :
      (v : Value) (n : ℕ) (p : PartState) (behind : Control) (operation : Option ℕ) (shown : Event) (u : State)
      → NotTwice (ended_next named bodies v n p behind operation shown u)
  ended_not_twice v n p behind None shown u e = cc e
  ended_not_twice v n p behind (Some procedure) shown u e =
      operation_not_twice procedure (slice_get bodies procedure) (part_reference named v n p) (frame.Confines ∷ behind) shown u e

  finalized_not_twice :
      (v : Value) (cause : Cause) (of n : ℕ) (tasks : List Task) (k : Control) (found : Option PartState) → ((p : PartState) → found ≡ Some p → p.alive ≡ true)
      → NotTwice (finalized_next named bodies v cause of n tasks (procedure_number (operations_of types of).finalize) found (at k s))
  finalized_not_twice v cause of n tasks k None alive = λ e. cc e
  finalized_not_twice v cause of n tasks k (Some p) alive =
      subst
      (λ (b : Bool). NotTwice (if b then ended_next named bodies v n p (treating v (ends cause) tasks k) (procedure_number (operations_of types of).finalize) (Finalized v n p.turn of p.number cause) (record (at k s) { heap = finalize s.heap v n }) else halts (Erroneous FinalizesTwice)))
      (sym (alive p refl))
      (ended_not_twice v n p (treating v (ends cause) tasks k) (procedure_number (operations_of types of).finalize) (Finalized v n p.turn of p.number cause) (record (at k s) { heap = finalize s.heap v n }))

  ends_not_twice :
      (o : ℕ) (cause : Cause) (task : Task) (tasks : List Task) (k : Control) → s.control ≡ frame.Treats (name o) (ends cause) (task ∷ tasks) ∷ k
      → ((n : ℕ) → 1 ≤ count n (parts_left (shapes_of types) (task ∷ tasks))
      → gains (shapes_of types) o n (doings s.control) ≤ losses (shapes_of types) o n (doings s.control))
      → NotTwice (treats_next named types bodies (name o) (ends cause) (task ∷ tasks) (task_next (task ∷ tasks)) (at k s))
  unfolding exists_found
  ends_not_twice o cause (treats cs) tasks k is waits =
      pick_not_twice (length cs == 0) (length cs) (λ i. treated_on named (name o) (ends cause) (picked_task (shapes_of types) (direction_of (ends cause)) (treats cs ∷ tasks) i) (at k s))
  ends_not_twice o cause (performs of n) tasks k is waits =
      let shapes = shapes_of types in
      let there = treated_there (name o) (ends cause) (performs of n ∷ tasks) k is in
      let x = exists_found s.heap (name o) there in
      subst (λ (found : Found (Cell Value)). NotTwice (performed_next named types bodies (name o) (ends cause) of n tasks found (at k s))) (sym x.1)
      (finalized_not_twice (name o) cause of n tasks k (slice_get x.0.cell.parts n)
      (λ p at_n.
      let one = one_here (record { of = of; number = n }) (parts_left shapes tasks) in
      let w = waits n (omega (arith, one)) in
      let c = claimed there p at_n in
      alive_of p.alive (omega (arith, w, c))))
    where
      claimed : (e : Exists s.heap (name o)) (p : PartState) → slice_get (exists_found s.heap (name o) e).0.cell.parts n ≡ Some p → one_if p.alive + gains (shapes_of types) o n (doings s.control) ≡ 1 + losses (shapes_of types) o n (doings s.control)
      claimed (i, (same, (x, (at_i, stage)))) p at_n =
          let at_o : slice_get s.heap o ≡ Some x = ap (slice_get s.heap) (same_name o i same) ∙ at_i in
          subst (λ (found : Option Object). Claimed found n (gains (shapes_of types) o n (doings s.control)) (losses (shapes_of types) o n (doings s.control))) at_o (inv.claims o n) stage p at_n

  -- What is left of a finalization, inside of all operations of its object that run.
  ending_not_twice :
      (o : ℕ) (cause : Cause) (pool : Option ℕ) (task : Task) (tasks : List Task) (k : Control)
      → s.control ≡ frame.Treats (name o) (ends cause) (task ∷ tasks) ∷ ending_then o cause pool k
      → TreatsInside (shapes_of types) (name o) (task ∷ tasks) k → Stack types s.heap code s.activations k
      → NotTwice (treats_next named types bodies (name o) (ends cause) (task ∷ tasks) (task_next (task ∷ tasks)) (at (ending_then o cause pool k) s))
  ending_not_twice o cause pool task tasks k is inside h =
      let shapes = shapes_of types in
      let ds = Treating (name o) (ends cause) (task ∷ tasks) ∷ Ending (name o) ∷ doings k in
      let fine = subst (Of (Fine types past s.heap s.next)) (ap doings is) inv.fine in
      ends_not_twice o cause task tasks (ending_then o cause pool k) is
      (λ n some.
      let a = on_same o 1 in
      let b = on_same o (count n (parts_left shapes (task ∷ tasks))) in
      let c = keeps types past s.heap s.next code s.activations k h o n fine.1.1 (λ never. absurd (cc never)) (inside n (counted n (parts_left shapes (task ∷ tasks)) some)) in
      subst (λ (es : List Doing). gains shapes o n es ≤ losses shapes o n es) (sym (ap doings is)) (omega (arith, a, b, c, some)))

  copying_not_twice :
      (o m from t to width : ℕ) (task : Task) (tasks later : List Task) (k : Control)
      → s.control ≡ frame.Treats (name o) (ends (Assigning m)) (task ∷ tasks) ∷ frame.Copies from t ∷ storing_then o m to width later k
      → ((n : ℕ) → count n (parts_left (shapes_of types) later) ≤ 1)
      → TreatsInside (shapes_of types) (name o) (task ∷ tasks) k → Stack types s.heap code s.activations k
      → NotTwice (treats_next named types bodies (name o) (ends (Assigning m)) (task ∷ tasks) (task_next (task ∷ tasks)) (at (frame.Copies from t ∷ storing_then o m to width later k) s))
  copying_not_twice o m from t to width task tasks later k is once inside h =
      let shapes = shapes_of types in
      let b = frame.Copies from t ∷ storing_then o m to width later k in
      let ds = Treating (name o) (ends (Assigning m)) (task ∷ tasks) ∷ Treating (name o) (begins (Adjustment m) []) later ∷ doings k in
      let few : Fewer ds (doings s.control) =
      subst (Fewer ds) (sym (ap doings is))
      (fewer_treating (name o) (ends (Assigning m)) (task ∷ tasks) (Treating (name o) (begins (Adjustment m) []) later ∷ doings k) b
      (fewer_treating (name o) (begins (Adjustment m) []) later (doings k) k alike)) in
      let all_fine = subst (Of (Fine types past s.heap s.next)) (ap doings is) inv.fine in
      let fine = of_treating types s.heap (Fine types past s.heap s.next) (name o) (begins (Adjustment m) []) later k all_fine.1 in
      ends_not_twice o (Assigning m) task tasks b is
      (λ n some.
      let g = fewer_gains shapes o n ds (doings s.control) few in
      let l = fewer_losses shapes o n ds (doings s.control) few in
      let x = on_same o (count n (parts_left shapes later)) in
      let y = on_same o (count n (parts_left shapes (task ∷ tasks))) in
      let c = once n in
      let le = keeps types past s.heap s.next code s.activations k h o n fine (λ never. absurd (cc never)) (inside n (counted n (parts_left shapes (task ∷ tasks)) some)) in
      omega (arith, g, l, x, y, c, some, le))

  -- So it is with each treatment.
  by_next : (v : Value) (treatment : Treatment) (tasks : List Task) (k : Control) → s.mode ≡ Running → s.control ≡ frame.Treats v treatment tasks ∷ k → NotTwice (treats_next named types bodies v treatment tasks (task_next tasks) (at k s)) → NotTwice (next types bodies s)
  by_next v treatment tasks k running is h = subst NotTwice (sym (next_is types bodies s (frame.Treats v treatment tasks) k running is)) h

  -- The first of what is left to do.
  first_of : Frame Value → Control → Frame Value
  first_of d [] = d
  first_of d (f ∷ k) = f

  -- Code begins with no treatment.
  code_never : (acts : Acts) (v : Value) (treatment : Treatment) (tasks : List Task) (k c : Control) → c ≡ frame.Treats v treatment tasks ∷ k → Stack types s.heap code acts c → ⊥
  unfolding first_of
  code_never acts v treatment tasks k _ is nothing = absurd (cc is)
  code_never acts v treatment tasks k _ is (calm f j c h) = subst Calm (ap (first_of f) is) c
  code_never acts v treatment tasks k _ is (comes_back actuals references j h) = absurd (cc is)
  code_never acts v treatment tasks k _ is (operates j h) = absurd (cc is)

  guard_first : (acts : Acts) (v : Value) (treatment : Treatment) (tasks : List Task) (k c : Control) → c ≡ frame.Treats v treatment tasks ∷ k → Stack types s.heap guard acts c → ⊥
  guard_first acts v treatment tasks k _ is (awaits w by done of part left j some p h) = absurd (cc is)
  guard_first acts v treatment tasks k _ is (confines j some p h) = absurd (cc is)

  -- What is first is a treatment that is inside of all operations of its object.
  abbrev InsideOf : List Shape → Control → Type 0
  InsideOf shapes (frame.Treats v treatment tasks ∷ k) = TreatsInside shapes v tasks k
  InsideOf shapes k = ⊥

  finalization_not_twice :
      (v : Value) (treatment : Treatment) (tasks : List Task) (k : Control) → s.mode ≡ Running → s.control ≡ frame.Treats v treatment tasks ∷ k
      → TreatsInside (shapes_of types) v tasks k → (c : Control) → s.control ≡ c → Stack types s.heap finalization s.activations c → NotTwice (next types bodies s)
  finalization_not_twice v treatment tasks k running first inside c is (to_end o cause pool [] j e own once h) =
      let never : frame.Treats v treatment tasks ∷ k ≡ ending_then o cause pool j = sym first ∙ is ∙ e in absurd (cc never)
  finalization_not_twice v treatment tasks k running first inside c is (to_end o cause pool (task ∷ left) j e own once h) =
      let same : frame.Treats v treatment tasks ∷ k ≡ frame.Treats (name o) (ends cause) (task ∷ left) ∷ ending_then o cause pool j = sym first ∙ is ∙ e in
      let inside_of = subst (InsideOf (shapes_of types)) same inside in
      by_next (name o) (ends cause) (task ∷ left) (ending_then o cause pool j) running (is ∙ e) (ending_not_twice o cause pool task left j (is ∙ e) inside_of h)
  finalization_not_twice v treatment tasks k running first inside c is (to_copy o n from t to width source [] later j e less once operand h) =
      let never : frame.Treats v treatment tasks ∷ k ≡ frame.Copies from t ∷ storing_then o n to width later j = sym first ∙ is ∙ e in absurd (cc never)
  finalization_not_twice v treatment tasks k running first inside c is (to_copy o n from t to width source (task ∷ left) later j e less once operand h) =
      let b = frame.Copies from t ∷ storing_then o n to width later j in
      let same : frame.Treats v treatment tasks ∷ k ≡ frame.Treats (name o) (ends (Assigning n)) (task ∷ left) ∷ b = sym first ∙ is ∙ e in
      let inside_of = subst (InsideOf (shapes_of types)) same inside in
      by_next (name o) (ends (Assigning n)) (task ∷ left) b running (is ∙ e)
      (copying_not_twice o n from t to width task left later j (is ∙ e) once
      (λ m has. treating_inside (shapes_of types) (name o) m (name o) (begins (Adjustment n) []) later j (inside_of m has)) h)

  pub treats_not_twice : (v : Value) (treatment : Treatment) (tasks : List Task) (k : Control) → s.control ≡ frame.Treats v treatment tasks ∷ k → TreatsInside (shapes_of types) v tasks k → Stands types s.heap s → NotTwice (next types bodies s)
  treats_not_twice v treatment tasks k is inside (runs h) = absurd (code_never s.activations v treatment tasks k s.control is h)
  treats_not_twice v treatment tasks k is inside (finding running f after) = absurd (subst (λ (c : Control). AssignsThen types s.heap s.activations (rest c)) is after)
  treats_not_twice v treatment tasks k is inside (passing e raises p after) = absurd (subst (λ (c : Control). AssignsThen types s.heap s.activations (rest c)) is after)
  treats_not_twice v treatment tasks k is inside (ends_operation h) = absurd (guard_first s.activations v treatment tasks k s.control is h)
  treats_not_twice v treatment tasks k is inside (beginning o by done task left j running c h) =
      by_next (name o) (begins by done) (task ∷ left) j running c (begins_not_twice (name o) by done task left j c)
  treats_not_twice v treatment tasks k is inside (ending running h) = finalization_not_twice v treatment tasks k running is inside s.control refl h
  treats_not_twice v treatment tasks k is inside (leaving o x cause pool j running c own h at_o gone) =
      let never : frame.Treats v treatment tasks ∷ k ≡ frame.GivesBack (name o) cause pool ∷ j = sym is ∙ c in absurd (cc never)
  treats_not_twice v treatment tasks k is inside (storing o n to width left j running c h) =
      let never : frame.Treats v treatment tasks ∷ k ≡ storing_then o n to width left j = sym is ∙ c in absurd (cc never)

-- In every run, that to which something is done is there, whatever operations do.
named_existing : (xs : Heap) (v : Value) → Exists xs v → NamesExisting xs v
named_existing xs v t = (record { 0 = t.0 }, t.1.0, t.1.1.0, t.1.1.1.0, t.1.1.1.1)

all_exist : (xs : Heap) (k : Control) → Of (IsThere xs) (doings k) → TreatedExist xs k
all_exist xs [] h = tt
all_exist xs (frame.Treats v treatment tasks ∷ k) h = (named_existing xs v h.0, all_exist xs k h.1)
all_exist xs (frame.Awaits v by done of part tasks ∷ k) h = (named_existing xs v h.0, all_exist xs k h.1)
all_exist xs (frame.Ends v ∷ k) h = (named_existing xs v h.0, all_exist xs k h.1)
all_exist xs (f ∷ k) h = all_exist xs k h

pub treated_exist : TreatedObjectsExist
treated_exist program input events last run = all_exist last.heap last.control (last_holds program input events last run).fits.inv.there

-- Nothing waits for a part of an object that does not exist, and no operation of it runs.
missing_lasts : (xs : Heap) (o : ℕ) (ds : List Doing) → (NamesExisting xs (name o) → ⊥) → Of (IsThere xs) ds → Of (Lasts o) ds
missing_lasts xs o [] missing h = tt
missing_lasts xs o (Treating v (begins by done) tasks ∷ ds) missing h =
    ((λ same. missing (subst (NamesExisting xs) same (named_existing xs v h.0))), missing_lasts xs o ds missing h.1)
missing_lasts xs o (Treating v (ends cause) tasks ∷ ds) missing h = (tt, missing_lasts xs o ds missing h.1)
missing_lasts xs o (Ending v ∷ ds) missing h =
    ((λ same. missing (subst (NamesExisting xs) same (named_existing xs v h.0))), missing_lasts xs o ds missing h.1)

pub operated_exist : OperatedObjectsExist
operated_exist program input events last run o missing =
    let fits = (last_holds program input events last run).fits in
    none_runs_on program.types.items last o.0 fits.stands (missing_lasts last.heap o.0 (doings last.control) missing fits.inv.there)

-- What is treated next.
pub treated_exists :
    (program : Program) (input : List ℤ) (events : List Event) (last : State) → Run program (first_state program input) events last
    → (v : Value) (treatment : Treatment) (tasks : List Task) (k : Control) → last.control ≡ frame.Treats v treatment tasks ∷ k → NamesExisting last.heap v
treated_exists program input events last run v treatment tasks k is =
    (subst (TreatedExist last.heap) is (treated_exist program input events last run)).0

-- Where the body of an operation has ended, or an exception comes out of it, the object is there.
module _ (types : List TypeDefinition) (bodies : List BodyForm) (s : State) where
  awaited_not_twice :
      (v : Value) (by : Birth) (done : List Part) (of n : ℕ) (tasks : List Task) (found : Option PartState) (u : State)
      → NotTwice (born_next named v by done of n tasks found u)
  awaited_not_twice v by done of n tasks None u e = cc e
  awaited_not_twice v by done of n tasks (Some p) u e = cc e

  undo_not_twice : (x : Exception) (v : Value) (done : List Part) (found : Found (Cell Value)) (u : State) → NotTwice (undo_next named x v done found u)
  undo_not_twice x v done on_null u e = cc e
  undo_not_twice x v done on_gone u e = cc e
  undo_not_twice x v done on_other u e = cc e
  undo_not_twice x v done (finds cell) u e = cc e

  broken_not_twice : (x : Exception) (v : Value) (by : Birth) (done : List Part) (u : State) → NotTwice (broken_next named x v by done u)
  broken_not_twice x v Creation done u = undo_not_twice x v done (look u.heap v) u
  broken_not_twice x v Copy done u = λ e. cc e
  broken_not_twice x v (Adjustment n) done u = λ e. cc e

  guard_not_twice : (mode : Mode) (f : Frame Value) (k : Control) → waits_for_operation f ≡ true → TreatedExist s.heap (f ∷ k) → NotTwice (mode_next named types bodies mode (record s { control = f ∷ k }))
  unfolding exists_found
  guard_not_twice Running (frame.Awaits v by done of n tasks) k waits h =
      let o = h.0.0.0 in
      let x = exists_found s.heap v (o, (h.0.1, (h.0.2, (h.0.3, h.0.4)))) in
      let u = record s { control = k } in
      subst (λ (found : Found (Cell Value)). NotTwice (awaited_next named v by done of n tasks found u)) (sym x.1)
      (awaited_not_twice v by done of n tasks (slice_get x.0.cell.parts n) u)
  guard_not_twice Running frame.Confines k waits h = λ e. cc e
  guard_not_twice (Raising x) (frame.Awaits v by done of n tasks) k waits h = broken_not_twice x v by done (record s { control = k })
  guard_not_twice (Raising x) frame.Confines k waits h = λ e. cc e
  guard_not_twice Exiting (frame.Awaits v by done of n tasks) k waits h = λ e. cc e
  guard_not_twice Exiting frame.Confines k waits h = λ e. cc e
  guard_not_twice Returning (frame.Awaits v by done of n tasks) k waits h = λ e. cc e
  guard_not_twice Returning frame.Confines k waits h = λ e. cc e
  guard_not_twice mode f k waits h = absurd (cc waits)

pub operations_end_well : OperationsEndWell
unfolding next
operations_end_well program input events last run f k is waits halted =
    let types = program.types.items in
    let bodies = body_forms program in
    let exist = subst (TreatedExist last.heap) is (treated_exist program input events last run) in
    let same : last ≡ record last { control = f ∷ k } = ap (λ (c : Control). record last { control = c }) is in
    guard_not_twice types bodies last last.mode f k waits exist (ap (λ (u : State). mode_next named types bodies last.mode u) (sym same) ∙ halted)

pub inner_values_exist : InnerValuesExist
inner_values_exist program input events last run v treatment tasks k is inside halted =
    let fits = (last_holds program input events last run).fits in
    treats_not_twice program.types.items (body_forms program) (past_then events []) last fits.inv v treatment tasks k is inside fits.stands halted

-- Where no operation of the object runs, all of it is inside.
pub values_exist : TreatedValuesExist
values_exist program input events last run v treatment tasks k is none =
    inner_values_exist program input events last run v treatment tasks k is (λ n has. none_inside (shapes_of program.types.items) v n k none)

-- Where no operation runs, none of any object does.
none_on : (v : Value) (k : Control) → NoOperationRuns k → NoOperationRunsOn v k
none_on v [] still = tt
none_on v (frame.Awaits w by done of part tasks ∷ k) still = absurd (cc still.0)
none_on v (frame.Confines ∷ k) still = absurd (cc still.0)
none_on v (f ∷ k) still = none_on v k still.1

pub never_twice : NeverFinalizesTwice
never_twice program input events last still run v treatment tasks k is =
    values_exist program input events last run v treatment tasks k is (none_on v k (subst NoOperationRuns is still).1)
