-- So it is in each state of a run; and where an operation of an object runs alone, what its body assigns to has its values (7.6.1).

use Rattle.std.proofs.Common.{◌≡◌, ℕ, ℤ, ◌≤◌, Bool, true, false, List, [], ◌∷◌, refl, sym, ap, ◌∙◌, subst, arith, ◌⊎◌, inl, inr}
use Rattle.std.specs.List.{Contains, slice_get}
use Rattle.std.proofs.lemmas.Bool.{and_from, and_parts, or_parts}
use Rattle.ada_program.specs.declared.program.Program.{Program}
use Rattle.ada_program.specs.declared.program.TypeDefinition.{TypeDefinition}
use Rattle.ada_program.specs.Controlled.{shapes_of}
use Rattle.ada_program.specs.Form.{ActualForm, StmtsForm}
use Rattle.ada_program.specs.ProgramForm.{program_form, body_forms, main_body}
use Rattle.ada_program.specs.WellFormed.{IsWellFormed}
use Rattle.ada_parts.specs.Shape.{Shape}
use Rattle.ada_parts.specs.Part.{Part, numbers}
use Rattle.ada_parts.specs.Task.{Task}
use Rattle.ada_parts.specs.Law.{parts_left}
use Rattle.ada_meaning.specs.declared.event.Birth.TheVariants.{Adjustment}
use Rattle.ada_meaning.specs.declared.event.Cause.TheVariants.{Assigning}
use Rattle.ada_meaning.specs.declared.state.Id.{Id}
use Rattle.ada_meaning.specs.declared.state.Mode.TheVariants.{Running, Raising}
use Rattle.ada_meaning.specs.declared.state.Place.{Place}
use Rattle.ada_meaning.specs.declared.state.Value.{Value}
use Rattle.ada_meaning.specs.declared.state.Value.TheVariants.{Null, Names, Part as Inside}
use Rattle.ada_meaning.specs.Frame.{Frame, begins, ends}
use Rattle.ada_meaning.specs.Frame as frame
use Rattle.ada_meaning.specs.Step.{halts, moves, tells, asks, picks, first_or, older, operands, treating}
use Rattle.ada_meaning.specs.Named.{State, Next, next}
use Rattle.ada_meaning.specs.Run.{Event, Choice, settled, grants, takes, Leads, Step, Run, here, there, first_state}
use Rattle.ada_formals.specs.Formals as formal
use Rattle.ada_formals.proofs.Runs.{operations_refer_to_their_parts}
use Rattle.ada_finalized.specs.Law.{finalized_before, left_to_finalize, IsInside, NoOperationRunsOn, TreatsInside}
use Rattle.ada_finalized.proofs.Counts.{count, count_has}
use Rattle.ada_finalized.proofs.Doings.{name, Calm, rest}
use Rattle.ada_finalized.proofs.Inside.{counted, none_inside}
use Rattle.ada_finalized.proofs.Twice.{inner_values_exist}
use Rattle.ada_finalized.proofs.Ranks.{Heap}
use Rattle.ada_finalized.proofs.Runs.{last_holds}
use Rattle.ada_finalized.proofs.Stacks.{Acts, Control, code, guard, finalization, Stack, nothing, calm, comes_back, operates, awaits, confines, to_end, to_copy, storing_then}
use Rattle.ada_finalized.proofs.Invariant.{Finding, Passing, seeks as seeks_record, follows, reaches, assigns, passes_assigns, passes_refers, passes_in, AssignsThen, Stands as StandsOver, runs, finding, passing, ends_operation as ends_guard, beginning, ending, leaving, storing}
use Rattle.ada_typed.proofs.Kept.{Each}
use Rattle.ada_formals.proofs.Standing.{ends_operation}
use Rattle.ada_assigned.specs.Law.{CalledAssignBeside, CalledAssignmentsRunAlone, RunsAlone, operations_assign_inside, is_of_operation, waits_first, AssignmentsInsideStand, AssignmentsBesideRunAlone}
use Rattle.ada_assigned.proofs.Keeping.{Told, behind_body, runs_operation, assigns_called, ApartBeside, LiesSafely, CopiesFor, Keeps}
use Rattle.ada_assigned.proofs.Seeking.{Operated, Sought, target_next, source_next, follows as follows_path, reaches as reaches_record, both_known, Passes, by_assigns, by_refers, by_reference, Stands, keeps, seeks, fails}
use Rattle.ada_assigned.proofs.Going.{next_stands}
use Rattle.ada_assigned.proofs.Texts.{count_formals, operations_assign}
use Rattle.ada_assigned.proofs.Finalizing.{ends_inside}
use Rattle.ada_assigned.proofs.Declaring.{declares_beside}

-- It is so where a choice leads.
led : (P : State → Type 0) (coming : Next) (choice : Choice) (e : Event) (after : State) → Each P coming → Leads coming choice e after → P after
led P (halts halt) choice e after all leads = absurd leads
led P (moves shown s) settled e after all leads = rw (leads.1) all
led P (tells request shown s) settled e after all leads = rw (leads.1) all
led P (asks request answers) (grants granted) e after all leads = rw (leads.1) (all granted)
led P (picks n taking) (takes i) e after all leads = rw (leads.2) (all i leads.0)
led P (moves shown s) (grants granted) e after all leads = absurd leads
led P (moves shown s) (takes i) e after all leads = absurd leads
led P (tells request shown s) (grants granted) e after all leads = absurd leads
led P (tells request shown s) (takes i) e after all leads = absurd leads
led P (asks request answers) settled e after all leads = absurd leads
led P (asks request answers) (takes i) e after all leads = absurd leads
led P (picks n taking) settled e after all leads = absurd leads
led P (picks n taking) (grants granted) e after all leads = absurd leads

-- A run goes on by one step more.
and_then : (program : Program) (s mid after : State) (events : List Event) (choice : Choice) (e : Event) → Run program s events mid → Step program mid choice e after
    → (later : List Event) × Run program s later after
and_then program s mid after _ choice e here step = (e ∷ [], there choice after step here)
and_then program s mid after (d ∷ events) choice e (there other next_one first rest) step =
    let more = and_then program next_one mid after events choice e rest step in
    (d ∷ more.0, there other next_one first more.1)

module _ (program : Program) (well : IsWellFormed (program_form program)) (told : Told) (inside : operations_assign_inside (program_form program) told.within told.called ≡ true)
    (beside : told.watched ≡ true → CalledAssignBeside (program_form program) told.called)
    (counted : (procedure : ℕ) → told.formals procedure ≡ count_formals (slice_get (body_forms program) procedure)) (input : List ℤ) where
  step_stands :
      (events : List Event) (s after : State) (choice : Choice) (e : Event) → Run program (first_state program input) events s
      → Stands program.types.items told s → Step program s choice e after → Stands program.types.items told after
  step_stands events s after choice e run h step =
      led (Stands program.types.items told) (next program.types.items (body_forms program) s) choice e after
      (next_stands program.types.items told (body_forms program) (operations_assign program well told inside beside counted) s
      (operations_refer_to_their_parts program well input events s run) (ends_inside program well input events s run)
      (declares_beside program well input events s run) h) step

  run_stands :
      (past events : List Event) (s last : State) → Run program (first_state program input) past s → Stands program.types.items told s → Run program s events last
      → Stands program.types.items told last
  run_stands past _ s last run h here = h
  run_stands past (e ∷ events) s last run h (there choice mid step rest) =
      let more = and_then program (first_state program input) s mid past choice e run step in
      run_stands more.0 events mid last more.1 (step_stands past s mid choice e run h step) rest

  pub last_stands : (events : List Event) (last : State) → Run program (first_state program input) events last → Stands program.types.items told last
  last_stands events last run =
      run_stands [] events (first_state program input) last here
      (keeps (assigns_called program.types.items told 0 (main_body (program_form program)) [] refl (λ known. absurd (cc (and_parts told.watched false known).1)), tt)) run

-- What is told of a program.
abbrev told_of : Program → (within called : ℕ → Bool) → (watched : Bool) → Told
told_of program within called watched =
    record { within = within; called = called; formals = λ procedure. count_formals (slice_get (body_forms program) procedure); watched = watched }

-- What is left of the treatment, and what stands behind it.
module _ (types : List TypeDefinition) (s : State) (object : Value) (number first t : ℕ) (tasks : List Task) (k : List (Frame Value))
    (is : s.control ≡ frame.Treats object (ends (Assigning number)) tasks ∷ frame.Copies first t ∷ k) where
  abbrev shapes : List Shape
  shapes = shapes_of types

  abbrev now : List (Frame Value)
  now = frame.Treats object (ends (Assigning number)) tasks ∷ frame.Copies first t ∷ k

  -- The assignment: its target is copied to and adjusted then; nothing is finalized that is not adjusted.
  record Copying : Type 0 where
    o : ℕ
    m : ℕ
    to : ℕ
    width : ℕ
    left : List Task
    acts : Acts
    later : Control
    object_is : object ≡ name o
    stored : k ≡ storing_then o m to width left later
    less : (n : ℕ) → count n (parts_left shapes tasks) ≤ count n (parts_left shapes left)
    behind : Stack types s.heap code acts later

  by_finalization : (acts : Acts) (c : Control) → c ≡ now → Stack types s.heap finalization acts c → Copying
  by_finalization acts c e (to_end i cause pool [] later e2 own once h) = absurd (cc (sym e ∙ e2))
  by_finalization acts c e (to_end i cause pool (task ∷ left) later e2 own once h) = absurd (cc (sym e ∙ e2))
  by_finalization acts c e (to_copy i m from u to width source [] left later e2 less once operand h) = absurd (cc (sym e ∙ e2))
  by_finalization acts c e (to_copy i m from u to width source (task ∷ rest) left later e2 less once operand h) =
      let both : now ≡ frame.Treats (name i) (ends (Assigning m)) (task ∷ rest) ∷ frame.Copies from u ∷ storing_then i m to width left later = sym e ∙ e2 in
      let same : tasks ≡ task ∷ rest = cc both in
      record {
        o = i;
        m = m;
        to = to;
        width = width;
        left = left;
        acts = acts;
        later = later;
        object_is = cc both;
        stored = cc both;
        less = λ n. subst (λ (ts : List Task). count n (parts_left shapes ts) ≤ count n (parts_left shapes left)) (sym same) (less n);
        behind = h;
      }

  by_code : (acts : Acts) (c : Control) → c ≡ now → Stack types s.heap code acts c → Copying
  by_code acts _ e nothing = absurd (cc e)
  by_code acts _ e (calm f j c h) =
      let first_is : f ≡ frame.Treats object (ends (Assigning number)) tasks = cc e in
      absurd (subst Calm first_is c)
  by_code acts _ e (comes_back actuals references j h) = absurd (cc e)
  by_code acts _ e (operates j h) = absurd (cc e)

  by_guard : (acts : Acts) (c : Control) → c ≡ now → Stack types s.heap guard acts c → Copying
  by_guard acts _ e (awaits v by done of part left j some p h) = absurd (cc e)
  by_guard acts _ e (confines j some p h) = absurd (cc e)

  by_finding : (ops : List Value) (c : Control) → c ≡ now → Finding s.heap ops c → Copying
  by_finding ops _ e (seeks_record p behind then) = absurd (cc e)
  by_finding ops _ e (follows cs place u behind then) = absurd (cc e)
  by_finding ops _ e (reaches place u behind then) = absurd (cc e)
  by_finding ops _ e (assigns u j r) = absurd (cc e)

  by_passing : (c : Control) → c ≡ now → Passing c → Copying
  by_passing _ e (passes_assigns u j) = absurd (cc e)
  by_passing _ e (passes_refers p j h) = absurd (cc e)
  by_passing _ e (passes_in place u j h) = absurd (cc e)

  copying : StandsOver types s.heap s → Copying
  copying (runs h) = by_code s.activations s.control is h
  copying (finding running f after) = by_finding _ s.control is f
  copying (passing e raising p after) = by_passing s.control is p
  copying (ends_guard h) = by_guard s.activations s.control is h
  copying (beginning o by done task left j running e h) = absurd (cc (sym is ∙ e))
  copying (ending running h) = by_finalization s.activations s.control is h
  copying (leaving o x cause pool j running e own h at_o gone) = absurd (cc (sym is ∙ e))
  copying (storing o n to width left j running e h) = absurd (cc (sym is ∙ e))

-- Both crates say the same of what is finalized.
same_before : (k : Control) → formal.finalized_before k ≡ finalized_before k
same_before [] = refl
same_before (frame.Treats v treatment tasks ∷ k) = refl
same_before (frame.Ends v ∷ k) = refl
same_before (frame.Copies first t ∷ k) = same_before k
same_before (frame.StoresRecord v to width ∷ k) = refl
same_before (f ∷ k) = refl

same_left : (types : List TypeDefinition) (xs : Heap) (acts : Acts) (k : Control) → Stack types xs finalization acts k
    → parts_left (shapes_of types) (formal.left_to_finalize k) ≡ left_to_finalize (shapes_of types) k
same_left types xs acts k (to_end i cause pool [] later is own once h) =
    ap (λ (c : Control). parts_left (shapes_of types) (formal.left_to_finalize c)) is ∙ sym (ap (left_to_finalize (shapes_of types)) is)
same_left types xs acts k (to_end i cause pool (task ∷ tasks) later is own once h) =
    ap (λ (c : Control). parts_left (shapes_of types) (formal.left_to_finalize c)) is ∙ sym (ap (left_to_finalize (shapes_of types)) is)
same_left types xs acts k (to_copy i m from u to width source [] left later is less once operand h) =
    ap (λ (c : Control). parts_left (shapes_of types) (formal.left_to_finalize c)) is ∙ sym (ap (left_to_finalize (shapes_of types)) is)
same_left types xs acts k (to_copy i m from u to width source (task ∷ tasks) left later is less once operand h) =
    ap (λ (c : Control). parts_left (shapes_of types) (formal.left_to_finalize c)) is ∙ sym (ap (left_to_finalize (shapes_of types)) is)

-- In front of an operation that runs alone, what lies in its part is inside of all that run.
module _ (types : List TypeDefinition) (xs : Heap) (o : Value) (left : List Task) (n : ℕ) (has : Contains (numbers (parts_left (shapes_of types) left)) n) where
  abbrev In : Control → Type 0
  In k = IsInside (shapes_of types) o n k

  calm_in : (f : Frame Value) (k : Control) → Calm f → RunsAlone o (f ∷ k) → LiesSafely types (behind_body (f ∷ k)) o left
      → (RunsAlone o k → LiesSafely types (behind_body k) o left → In k) → In (f ∷ k)
  calm_in (frame.Treats v treatment tasks) k c alone lies on = absurd c
  calm_in (frame.Awaits v by done of part tasks) k c alone lies on = absurd c
  calm_in frame.Confines k c alone lies on = absurd c
  calm_in (frame.Assigns t) k c alone lies on = absurd c
  calm_in (frame.Ends v) k c alone lies on = absurd c
  calm_in (frame.GivesBack v cause pool) k c alone lies on = absurd c
  calm_in (frame.Returns actuals references) k c alone lies on = absurd c
  calm_in f k c alone lies on = on alone lies

  none_waits : (f : Frame Value) (k : Control) (actuals : List ActualForm) (references : List Value) → Calm f → RunsAlone o (frame.Returns actuals references ∷ f ∷ k) → ⊥
  none_waits (frame.Awaits v by done of part tasks) k actuals references c alone = c
  none_waits frame.Confines k actuals references c alone = c
  none_waits f k actuals references c alone = alone

  back_never : (acts : Acts) (k : Control) (actuals : List ActualForm) (references : List Value) → Stack types xs code acts k → RunsAlone o (frame.Returns actuals references ∷ k) → ⊥
  back_never acts _ actuals references nothing alone = alone
  back_never acts _ actuals references (calm f k c h) alone = none_waits f k actuals references c alone
  back_never acts _ actuals references (comes_back more others k h) alone = alone
  back_never acts _ actuals references (operates k h) alone = alone

  guard_in : (acts : Acts) (k : Control) → Stack types xs guard acts k → RunsAlone o (frame.Returns [] [] ∷ k) → LiesSafely types k o left → In k
  guard_in acts _ (awaits v by done of part tasks k some p h) alone (inl lies) =
      ((λ same. lies.1 n has), none_inside (shapes_of types) o n k (alone lies.0))
  guard_in acts _ (confines k some p h) alone (inl lies) =
      let there = subst (λ (parts : List Part). Contains (numbers parts) n) (same_left types xs acts k h) (lies.1 n has) in
      ((λ same. there), none_inside (shapes_of types) o n k (alone (sym (same_before k) ∙ lies.0)))
  guard_in acts k h alone (inr none) = none_inside (shapes_of types) o n k none

  code_in : (acts : Acts) (k : Control) → Stack types xs code acts k → RunsAlone o k → LiesSafely types (behind_body k) o left → In k
  code_in acts _ nothing alone lies = tt
  code_in acts _ (calm f k c h) alone lies = calm_in f k c alone lies (code_in acts k h)
  code_in acts _ (comes_back actuals references k h) alone lies = absurd (back_never (older acts) k actuals references h alone)
  code_in acts _ (operates k h) alone lies = guard_in (older acts) k h alone lies

-- All that is left of the treatment is.
module _ (types : List TypeDefinition) (told : Told) (s : State) (object : Value) (number first t : ℕ) (tasks : List Task) (k : List (Frame Value))
    (is : s.control ≡ frame.Treats object (ends (Assigning number)) tasks ∷ frame.Copies first t ∷ k) (alone : RunsAlone object k) where
  abbrev there_now : List (Frame Value)
  there_now = frame.Treats object (ends (Assigning number)) tasks ∷ frame.Copies first t ∷ k

  by_sought : (ops : List Value) (c : Control) → c ≡ there_now → Sought types told ops c → Keeps types told c
  by_sought ops _ e (target_next p q fs j parts own h) = absurd (cc e)
  by_sought ops _ e (source_next q u fs j own h) = absurd (cc e)
  by_sought ops _ e (follows_path cs place u behind h) = absurd (cc e)
  by_sought ops _ e (reaches_record place u behind h) = absurd (cc e)
  by_sought ops _ e (both_known u fs j own h) = absurd (cc e)

  by_passes : (c : Control) → c ≡ there_now → Passes types told c → Keeps types told c
  by_passes _ e (by_assigns u j h) = absurd (cc e)
  by_passes _ e (by_refers p j h) = absurd (cc e)
  by_passes _ e (by_reference place u j h) = absurd (cc e)

  kept : Stands types told s → Keeps types told s.control
  kept (keeps h) = h
  kept (seeks on h) = by_sought _ s.control is h
  kept (fails e raising h) = by_passes s.control is h

  -- What is copied and stored then.
  by_lists :
      (n o m to width m2 to2 width2 : ℕ) (acts : Acts) (later : Control) (w : Value) (fs : StmtsForm) (after : Control) (left others : List Task) → object ≡ name o
      → k ≡ storing_then o m to width left later → Stack types s.heap code acts later → 1 ≤ count n (parts_left (shapes_of types) left)
      → frame.StoresRecord (name o) to width ∷ treating (name o) (begins (Adjustment m) []) left later
      ≡ frame.StoresRecord w to2 width2 ∷ treating w (begins (Adjustment m2) []) others (frame.Does fs ∷ after)
      → LiesSafely types (behind_body after) w others → IsInside (shapes_of types) object n k
  by_lists n o m to width m2 to2 width2 acts later w fs after [] others object_is stored h some same lies = absurd (omega (arith, some))
  by_lists n o m to width m2 to2 width2 acts later w fs after (task ∷ left) [] object_is stored h some same lies = absurd (cc same)
  by_lists n o m to width m2 to2 width2 acts later w fs after (task ∷ left) (other ∷ others) object_is stored h some same lies =
      let name_is : w ≡ object = cc (same, object_is) in
      let left_is : other ∷ others ≡ task ∷ left = cc same in
      let later_is : frame.Does fs ∷ after ≡ later = cc same in
      let within = counted n (parts_left (shapes_of types) (task ∷ left)) some in
      let lies_there = subst (λ (j : Control). LiesSafely types (behind_body j) object (task ∷ left)) later_is
      (subst (λ (v : Value). LiesSafely types (behind_body after) v (task ∷ left)) name_is
      (subst (LiesSafely types (behind_body after) w) left_is lies)) in
      subst (IsInside (shapes_of types) object n) (sym stored)
      (code_in types s.heap object (task ∷ left) n within acts later h (subst (RunsAlone object) stored alone) lies_there)

  by_copies : (n : ℕ) → 1 ≤ count n (parts_left (shapes_of types) tasks) → (c : Copying types s object number first t tasks k is) → CopiesFor types k
      → IsInside (shapes_of types) object n k
  by_copies n some c copies =
      let f : CopiesFor types (storing_then c.o c.m c.to c.width c.left c.later) = subst (CopiesFor types) c.stored copies in
      let le = c.less n in
      by_lists n c.o c.m c.to c.width f.1 f.2 f.3 c.acts c.later f.0 f.5 f.6 c.left f.4 c.object_is c.stored c.behind (omega (arith, some, le)) f.7 f.8

  pub treats_inside : StandsOver types s.heap s → Stands types told s → TreatsInside (shapes_of types) object tasks (frame.Copies first t ∷ k)
  treats_inside over h n has =
      by_copies n (count_has n (parts_left (shapes_of types) tasks) has) (copying types s object number first t tasks k is over) (subst (Keeps types told) is (kept h)).1.0

pub assignments_stand : AssignmentsInsideStand
assignments_stand program well within called inside input events last run object number tasks first t k is alone halted =
    let types = program.types.items in
    let told = told_of program within called false in
    inner_values_exist program input events last run object (ends (Assigning number)) tasks (frame.Copies first t ∷ k) is
    (treats_inside types told last object number first t tasks k is alone (last_holds program input events last run).fits.stands
    (last_stands program well told inside (λ watched. absurd (cc watched)) (λ procedure. refl) input events last run)) halted

-- Where code comes next, and behind it no operation of an object runs, none does at all.
module _ (types : List TypeDefinition) (xs : Heap) (v : Value) where
  calm_alone : (f : Frame Value) (k : Control) → Calm f → NoOperationRunsOn v k → NoOperationRunsOn v (f ∷ k)
  calm_alone (frame.Awaits w by done of part tasks) k c alone = absurd c
  calm_alone frame.Confines k c alone = absurd c
  calm_alone f k c alone = alone

  behind_alone : (f : Frame Value) (k : Control) → Calm f → NoOperationRunsOn v (behind_body (f ∷ k)) → NoOperationRunsOn v (behind_body k)
  behind_alone (frame.Returns actuals references) k c alone = absurd c
  behind_alone f k c alone = alone

  code_alone : (acts : Acts) (k : Control) → Stack types xs code acts k → NoOperationRunsOn v (behind_body k) → NoOperationRunsOn v k
  code_alone acts _ nothing alone = tt
  code_alone acts _ (calm f k c h) alone = calm_alone f k c (code_alone acts k h (behind_alone f k c alone))
  code_alone acts _ (comes_back actuals references k h) alone = alone
  code_alone acts _ (operates k h) alone = alone

  -- So it is where none runs behind a body.
  calm_still : (f : Frame Value) (k : Control) → Calm f → runs_operation (f ∷ k) ≡ false → runs_operation k ≡ false
  calm_still (frame.Returns actuals references) k c still = absurd c
  calm_still f k c still = still

  guard_runs : (acts : Acts) (k : Control) → Stack types xs guard acts k → ends_operation k ≡ true
  guard_runs acts _ (awaits w by done of part tasks k some p h) = refl
  guard_runs acts _ (confines k some p h) = refl

  none_runs : (acts : Acts) (k : Control) → Stack types xs code acts k → runs_operation k ≡ false → NoOperationRunsOn v k
  none_runs acts _ nothing still = tt
  none_runs acts _ (calm f k c h) still = calm_alone f k c (none_runs acts k h (calm_still f k c still))
  none_runs acts _ (comes_back actuals references k h) still = none_runs (older acts) k h (or_parts (ends_operation k) (runs_operation k) still).1
  none_runs acts _ (operates k h) still =
      let runs = guard_runs (older acts) k h in
      let ends = (or_parts (ends_operation k) (runs_operation k) still).0 in
      absurd (cc (runs, ends))

-- What waits behind the running body is an operation, where that is said.
ends_first : (k : Control) → waits_first k ≡ true → ends_operation k ≡ true
ends_first [] is = absurd (cc is)
ends_first (frame.Awaits v by done of part tasks ∷ k) is = refl
ends_first (frame.Confines ∷ k) is = refl
ends_first (f ∷ k) is = absurd (cc is)

ends_behind : (k : Control) → is_of_operation k ≡ true → ends_operation (behind_body k) ≡ true
ends_behind [] is = absurd (cc is)
ends_behind (frame.Returns actuals references ∷ k) is = ends_first k is
ends_behind (f ∷ k) is = ends_behind k is

-- And where it is a call, none does.
calls_first : (k : Control) → waits_first k ≡ false → ends_operation k ≡ false
calls_first [] is = refl
calls_first (frame.Awaits v by done of part tasks ∷ k) is = absurd (cc is)
calls_first (frame.Confines ∷ k) is = absurd (cc is)
calls_first (f ∷ k) is = refl

calls_behind : (k : Control) → is_of_operation k ≡ false → ends_operation (behind_body k) ≡ false
calls_behind [] is = refl
calls_behind (frame.Returns actuals references ∷ k) is = calls_first k is
calls_behind (f ∷ k) is = calls_behind k is

-- Behind no body does one wait, where none waits for the running one, or behind that.
still_behind : (k : Control) → ends_operation (behind_body k) ≡ false → runs_operation (behind_body k) ≡ false → runs_operation k ≡ false
still_behind [] call still = refl
still_behind (frame.Returns actuals references ∷ k) call still = cc (call, still)
still_behind (f ∷ k) call still = still_behind k call still

-- Where the records of an assignment have been found, no operation runs of the object in which the target lies, if none of its type is assigned to inside of a
-- formal parameter, or the body is one that is called.
module _ (types : List TypeDefinition) (told : Told) (s : State) (t : ℕ) (k : Control) (going : s.mode ≡ Running) (is : s.control ≡ frame.Assigns t ∷ k)
    (none : is_of_operation k ≡ true → told.within t ≡ false) (watched : is_of_operation k ≡ false → told.watched ≡ true) (o : Id) (place : Place) (target : first_or Null (older (operands s)) ≡ Inside o place) where
  abbrev assigning : Control
  assigning = frame.Assigns t ∷ k

  -- None is of it that waits for the running body, or behind that; or none waits at all.
  abbrev StandsAlone : Type 0
  StandsAlone = NoOperationRunsOn (Names o) (behind_body k) ⊎ (runs_operation k ≡ false)

  sought_alone : (c : Control) → c ≡ assigning → Sought types told (operands s) c → StandsAlone
  sought_alone _ e (target_next p q fs j parts own' h) = absurd (cc e)
  sought_alone _ e (source_next q u fs j own' h) = absurd (cc e)
  sought_alone _ e (follows_path cs at u behind h) = absurd (cc e)
  sought_alone _ e (reaches_record at u behind h) = absurd (cc e)
  sought_alone _ e (both_known u fs j found h) =
      by (is_of_operation k) refl
      (subst (λ (c : Control). ApartBeside told (behind_body c) t (Names o)) behind
      (subst (λ (n : ℕ). ApartBeside told (behind_body j) n (Names o)) same apart.1))
    where
      same : u ≡ t
      same = cc e

      behind : frame.Does fs ∷ j ≡ k
      behind = cc e

      apart : Operated types told (behind_body j) u (Inside o place)
      apart = subst (Operated types told (behind_body j) u) target found

      by_run : (waiting : Bool) → runs_operation (behind_body k) ≡ waiting → is_of_operation k ≡ false → ApartBeside told (behind_body k) t (Names o) → StandsAlone
      by_run true waits call stands = inl (stands.1 (calls_behind k call) (and_from told.watched (runs_operation (behind_body k)) (watched call) waits))
      by_run false still call stands = inr (still_behind k (calls_behind k call) still)

      by : (own : Bool) → is_of_operation k ≡ own → ApartBeside told (behind_body k) t (Names o) → StandsAlone
      by true own stands = inl (stands.0 (ends_behind k own) (none own))
      by false call stands = by_run (runs_operation (behind_body k)) refl call stands

  found_alone : Stands types told s → StandsAlone
  found_alone (keeps h) = absurd ((subst (Keeps types told) is h).0)
  found_alone (seeks on h) = sought_alone s.control is h
  found_alone (fails e raising h) = let never : Running ≡ Raising e = sym going ∙ raising in absurd (cc never)

  -- Code is behind it.
  stack_by : (c : Control) → c ≡ assigning → AssignsThen types s.heap s.activations (rest c) → Stack types s.heap code s.activations k
  stack_by c e then = subst (λ (j : Control). AssignsThen types s.heap s.activations (rest j)) e then

  code_behind : StandsOver types s.heap s → Stack types s.heap code s.activations k
  code_behind (runs h) = absurd (assigns_never s.control is h)
    where
      assigns_never : (c : Control) → c ≡ assigning → Stack types s.heap code s.activations c → ⊥
      assigns_never _ e nothing = cc e
      assigns_never _ e (calm f j c h') = let first_is : f ≡ frame.Assigns t = cc e in subst Calm first_is c
      assigns_never _ e (comes_back actuals references j h') = cc e
      assigns_never _ e (operates j h') = cc e
  code_behind (finding on f after) = stack_by s.control is after
  code_behind (passing e raising p after) = stack_by s.control is after
  code_behind (ends_guard h) = absurd (guard_never s.control is h)
    where
      guard_never : (c : Control) → c ≡ assigning → Stack types s.heap guard s.activations c → ⊥
      guard_never _ e (awaits v by done of part left j some p h') = cc e
      guard_never _ e (confines j some p h') = cc e
  code_behind (beginning i by done task left j on e h) = absurd (cc (sym is ∙ e))
  code_behind (ending on h) = absurd (finalization_never s.activations s.control is h)
    where
      finalization_never : (acts : Acts) (c : Control) → c ≡ assigning → Stack types s.heap finalization acts c → ⊥
      finalization_never acts c e (to_end i cause pool [] later e2 own' once h') = cc (sym e ∙ e2)
      finalization_never acts c e (to_end i cause pool (task ∷ left) later e2 own' once h') = cc (sym e ∙ e2)
      finalization_never acts c e (to_copy i m from u to width source [] left later e2 less once operand h') = cc (sym e ∙ e2)
      finalization_never acts c e (to_copy i m from u to width source (task ∷ more) left later e2 less once operand h') = cc (sym e ∙ e2)
  code_behind (leaving i x cause pool j on e own' h at_i gone) = absurd (cc (sym is ∙ e))
  code_behind (storing i n to width left j on e h) = absurd (cc (sym is ∙ e))

  pub runs_alone : Stands types told s → StandsOver types s.heap s → NoOperationRunsOn (Names o) k
  runs_alone stands over = elim (found_alone stands) [
    | inl apart ↦ code_alone types s.heap (Names o) s.activations k (code_behind over) apart
    | inr still ↦ none_runs types s.heap (Names o) s.activations k (code_behind over) still
  ]

pub beside_run_alone : AssignmentsBesideRunAlone
beside_run_alone program well within called inside input events last run going t k is own none o place target =
    let types = program.types.items in
    let told = told_of program within called false in
    runs_alone types told last t k going is (λ own'. none) (λ call. absurd (cc (own, call))) o place target
    (last_stands program well told inside (λ watched. absurd (cc watched)) (λ procedure. refl) input events last run)
    (last_holds program input events last run).fits.stands

pub called_run_alone : CalledAssignmentsRunAlone
called_run_alone program well within called inside beside input events last run going t k is call o place target =
    let types = program.types.items in
    let told = told_of program within called true in
    runs_alone types told last t k going is (λ own. absurd (cc (own, call))) (λ call'. refl) o place target
    (last_stands program well told inside (λ watched. beside) (λ procedure. refl) input events last run)
    (last_holds program input events last run).fits.stands
