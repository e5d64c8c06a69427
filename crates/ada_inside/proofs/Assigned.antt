-- What an assignment finalizes and adjusts is inside of each operation of its object that runs (5.2, 7.6, 7.6.1).

use Rattle.std.proofs.Common.{◌≡◌, inl, inr, ℕ, Bool, true, false, ◌||◌, List, [], ◌∷◌, refl, sym, ap, ◌∙◌, subst, arith}
use Rattle.std.specs.List.{Contains}
use Rattle.std.proofs.lemmas.Bool.{and_from}
use Rattle.ada_program.specs.declared.program.TypeDefinition.{TypeDefinition}
use Rattle.ada_program.specs.Controlled.{shapes_of}
use Rattle.ada_program.specs.Form.{StmtsForm}
use Rattle.ada_parts.specs.declared.tasks.Direction.TheVariants.{PartsFirst, WholeFirst}
use Rattle.ada_parts.specs.Part.{numbers}
use Rattle.ada_parts.specs.Task.{Task}
use Rattle.ada_parts.specs.Law.{parts_left}
use Rattle.ada_meaning.specs.declared.event.Cause.{Cause}
use Rattle.ada_meaning.specs.declared.event.Cause.TheVariants.{Assigning}
use Rattle.ada_meaning.specs.declared.state.Id.{Id}
use Rattle.ada_meaning.specs.declared.state.Mode.TheVariants.{Running, Raising}
use Rattle.ada_meaning.specs.declared.state.Place.{Place}
use Rattle.ada_meaning.specs.declared.state.Value.{Value}
use Rattle.ada_meaning.specs.declared.state.Value.TheVariants.{Null, Names, Part as Inside}
use Rattle.ada_meaning.specs.Frame.{Frame, begins, ends}
use Rattle.ada_meaning.specs.Frame as frame
use Rattle.ada_meaning.specs.Step.{record_tasks, first_or, older, operands}
use Rattle.ada_meaning.specs.Named.{State}
use Rattle.ada_formals.specs.Formals as formal
use Rattle.ada_formals.proofs.Standing.{ends_operation}
use Rattle.ada_finalized.specs.Law.{NoOperationRunsOn, IsInside, TreatsInside}
use Rattle.ada_finalized.proofs.Counts.{count_has}
use Rattle.ada_finalized.proofs.Doings.{name, Calm, rest}
use Rattle.ada_finalized.proofs.Inside.{counted, none_inside}
use Rattle.ada_finalized.proofs.Invariant.{AssignsThen, Stands as StandsOver, runs, finding, passing, ends_operation as ends_guard, beginning, ending, leaving, storing}
use Rattle.ada_finalized.proofs.Ranks.{Heap}
use Rattle.ada_finalized.proofs.Stacks.{Acts, Control, code, guard, finalization, Stack, nothing, calm, comes_back, operates, awaits, confines, to_end, to_copy, ending_then, storing_then}
use Rattle.ada_finalized.proofs.Treated.{record_first}
use Rattle.ada_assigned.proofs.Keeping.{Told, behind_body, runs_operation, ApartBeside, LiesSafely, Keeps}
use Rattle.ada_assigned.proofs.Seeking.{Operated, Sought, target_next, source_next, follows as follows_path, reaches as reaches_record, both_known, Stands, keeps, seeks, fails}
use Rattle.ada_inside.specs.Law.{NestInside}
use Rattle.ada_inside.proofs.Nesting.{nests_behind}

-- No operation of an object runs, where none at all does behind code.
module _ (types : List TypeDefinition) (xs : Heap) (v : Value) where
  calm_alone : (f : Frame Value) (k : Control) → Calm f → NoOperationRunsOn v k → NoOperationRunsOn v (f ∷ k)
  calm_alone (frame.Awaits w by done of part tasks) k c alone = absurd c
  calm_alone frame.Confines k c alone = absurd c
  calm_alone f k c alone = alone

  calm_still : (f : Frame Value) (k : Control) → Calm f → runs_operation (f ∷ k) ≡ false → runs_operation k ≡ false
  calm_still (frame.Returns actuals references) k c still = absurd c
  calm_still f k c still = still

  guard_runs : (acts : Acts) (k : Control) → Stack types xs guard acts k → ends_operation k ≡ true
  guard_runs acts _ (awaits w by done of part tasks k some p h) = refl
  guard_runs acts _ (confines k some p h) = refl

  neither : (a b : Bool) → (a || b) ≡ false → b ≡ false
  neither true b h = absurd (cc h)
  neither false b h = h

  first_not : (a b : Bool) → (a || b) ≡ false → a ≡ true → ⊥
  first_not true b h is = cc h
  first_not false b h is = cc is

  none_runs : (acts : Acts) (k : Control) → Stack types xs code acts k → runs_operation k ≡ false → NoOperationRunsOn v k
  none_runs acts _ nothing still = tt
  none_runs acts _ (calm f k c h) still = calm_alone f k c (none_runs acts k h (calm_still f k c still))
  none_runs acts _ (comes_back actuals references k h) still = none_runs (older acts) k h (neither (ends_operation k) (runs_operation k) still)
  none_runs acts _ (operates k h) still = absurd (first_not (ends_operation k) (runs_operation k) still (guard_runs (older acts) k h))

module _ (types : List TypeDefinition) (xs : Heap) (w : Value) (left : List Task) (n : ℕ) (has : Contains (numbers (parts_left (shapes_of types) left)) n) where
  abbrev In : Control → Type 0
  In k = IsInside (shapes_of types) w n k

  -- Behind the running body.
  calm_in : (f : Frame Value) (k : Control) → Calm f → In k → In (f ∷ k)
  calm_in (frame.Awaits v by done of part tasks) k c inside = absurd c
  calm_in frame.Confines k c inside = absurd c
  calm_in f k c inside = inside

  body_in : (f : Frame Value) (k : Control) → Calm f → In (behind_body (f ∷ k)) → In (behind_body k)
  body_in (frame.Returns actuals references) k c inside = absurd c
  body_in f k c inside = inside

  code_in : (acts : Acts) (k : Control) → Stack types xs code acts k → In (behind_body k) → In k
  code_in acts _ nothing inside = tt
  code_in acts _ (calm f k c h) inside = calm_in f k c (code_in acts k h (body_in f k c inside))
  code_in acts _ (comes_back actuals references k h) inside = inside
  code_in acts _ (operates k h) inside = inside

  same_body : (f : Frame Value) (k : Control) → Calm f → behind_body (f ∷ k) ≡ behind_body k
  same_body (frame.Returns actuals references) k c = absurd c
  same_body f k c = refl

  -- In front of a Finalize, what is left to be finalized behind it.
  none_left : Contains (numbers (parts_left (shapes_of types) [])) n → ⊥
  none_left (i, lt, is) = omega (arith, lt)

  treats_in : (v : Value) (cause : Cause) (tasks : List Task) (j : Control) → NestInside (shapes_of types) (frame.Treats v (ends cause) tasks ∷ j) → v ≡ w
      → Contains (numbers (parts_left (shapes_of types) tasks)) n → In (frame.Confines ∷ frame.Treats v (ends cause) tasks ∷ j)
  treats_in v cause tasks j h same there = ((λ is. there), subst (λ (u : Value). IsInside (shapes_of types) u n j) same (h.0 n there))

  ended_in : (acts : Acts) (k : Control) → Stack types xs finalization acts k → NestInside (shapes_of types) k → formal.finalized_before k ≡ w
      → Contains (numbers (parts_left (shapes_of types) (formal.left_to_finalize k))) n → In (frame.Confines ∷ k)
  ended_in acts k (to_end i cause pool [] later is own once h) nests same there =
      absurd (none_left (subst (λ (c : Control). Contains (numbers (parts_left (shapes_of types) (formal.left_to_finalize c))) n) is there))
  ended_in acts k (to_end i cause pool (task ∷ tasks) later is own once h) nests same there =
      subst (λ (c : Control). In (frame.Confines ∷ c)) (sym is)
      (treats_in (name i) cause (task ∷ tasks) (ending_then i cause pool later) (subst (NestInside (shapes_of types)) is nests) (sym (ap formal.finalized_before is) ∙ same)
      (subst (λ (c : Control). Contains (numbers (parts_left (shapes_of types) (formal.left_to_finalize c))) n) is there))
  ended_in acts k (to_copy i m from u to width source [] later_tasks later is less once operand h) nests same there =
      absurd (none_left (subst (λ (c : Control). Contains (numbers (parts_left (shapes_of types) (formal.left_to_finalize c))) n) is there))
  ended_in acts k (to_copy i m from u to width source (task ∷ tasks) later_tasks later is less once operand h) nests same there =
      subst (λ (c : Control). In (frame.Confines ∷ c)) (sym is)
      (treats_in (name i) (Assigning m) (task ∷ tasks) (frame.Copies from u ∷ storing_then i m to width later_tasks later) (subst (NestInside (shapes_of types)) is nests)
      (sym (ap formal.finalized_before is) ∙ same)
      (subst (λ (c : Control). Contains (numbers (parts_left (shapes_of types) (formal.left_to_finalize c))) n) is there))

  -- What lies in the part of the operation that waits there lies in those of all others behind it.
  guard_in : (acts : Acts) (b : Control) → Stack types xs guard acts b → NestInside (shapes_of types) b → LiesSafely types b w left → In b
  guard_in acts b h nests (inr none) = none_inside (shapes_of types) w n b none
  guard_in acts _ (awaits v by done of part tasks k some p h) nests (inl lies) =
      ((λ same. lies.1 n has), subst (λ (u : Value). IsInside (shapes_of types) u n k) lies.0 (nests.0.0.within n (lies.1 n has)))
  guard_in acts _ (confines k some p h) nests (inl lies) = ended_in acts k h nests lies.0 (lies.1 n has)

  -- No operation waits where code comes next.
  calm_waits_not : (f : Frame Value) (k : Control) → Calm f → ends_operation (f ∷ k) ≡ false
  calm_waits_not (frame.Awaits v by done of part tasks) k c = absurd c
  calm_waits_not frame.Confines k c = absurd c
  calm_waits_not f k c = refl

  code_waits_not : (acts : Acts) (k : Control) → Stack types xs code acts k → ends_operation k ≡ false
  code_waits_not acts _ nothing = refl
  code_waits_not acts _ (calm f k c h) = calm_waits_not f k c
  code_waits_not acts _ (comes_back actuals references k h) = refl
  code_waits_not acts _ (operates k h) = refl

  -- So it is with what lies safely, in front of all that is left to do behind the running body.
  module _ (told : Told) (watched : told.watched ≡ true) (t : ℕ) where
    by_run : (acts : Acts) (b : Control) (running : Bool) → runs_operation b ≡ running → Stack types xs code acts b → ApartBeside told b t w → In b
    by_run acts b true runs_there h apart = none_inside (shapes_of types) w n b (apart.1 (code_waits_not acts b h) (and_from told.watched (runs_operation b) watched runs_there))
    by_run acts b false still h apart = none_inside (shapes_of types) w n b (none_runs types xs w acts b h still)

    behind_in : (acts : Acts) (k : Control) → Stack types xs code acts k → NestInside (shapes_of types) k → LiesSafely types (behind_body k) w left → ApartBeside told (behind_body k) t w
        → In (behind_body k)
    behind_in acts _ nothing nests lies apart = tt
    behind_in acts _ (calm f k c h) nests lies apart =
        let same = same_body f k c in
        subst In (sym same)
        (behind_in acts k h (nests_behind (shapes_of types) f k nests) (subst (λ (b : Control). LiesSafely types b w left) same lies) (subst (λ (b : Control). ApartBeside told b t w) same apart))
    behind_in acts _ (comes_back actuals references k h) nests lies apart = by_run (older acts) k (runs_operation k) refl h apart
    behind_in acts _ (operates k h) nests lies apart = guard_in (older acts) k h nests lies

    pub safely_in : (acts : Acts) (k : Control) → Stack types xs code acts k → NestInside (shapes_of types) k → LiesSafely types (behind_body k) w left
        → ApartBeside told (behind_body k) t w → In k
    safely_in acts k h nests lies apart = code_in acts k h (behind_in acts k h nests lies apart)

-- Where the records of an assignment have been found, all parts of the target are inside.
module _ (types : List TypeDefinition) (told : Told) (watched : told.watched ≡ true) (s : State) (t : ℕ) (k : Control) (on : s.mode ≡ Running) (is : s.control ≡ frame.Assigns t ∷ k) (nests : NestInside (shapes_of types) k) where
  abbrev assigning : Control
  assigning = frame.Assigns t ∷ k

  -- Code is behind it.
  stack_by : (c : Control) → c ≡ assigning → AssignsThen types s.heap s.activations (rest c) → Stack types s.heap code s.activations k
  stack_by c e then = subst (λ (j : Control). AssignsThen types s.heap s.activations (rest j)) e then

  code_behind : StandsOver types s.heap s → Stack types s.heap code s.activations k
  code_behind (runs h) = absurd (assigns_never s.control is h)
    where
      assigns_never : (c : Control) → c ≡ assigning → Stack types s.heap code s.activations c → ⊥
      assigns_never _ e nothing = cc e
      assigns_never _ e (calm f j c h') = let first_is : f ≡ frame.Assigns t = cc e in subst Calm first_is c
      assigns_never _ e (comes_back actuals references j h') = cc e
      assigns_never _ e (operates j h') = cc e
  code_behind (finding on' f after) = stack_by s.control is after
  code_behind (passing e raising p after) = stack_by s.control is after
  code_behind (ends_guard h) = absurd (guard_never s.control is h)
    where
      guard_never : (c : Control) → c ≡ assigning → Stack types s.heap guard s.activations c → ⊥
      guard_never _ e (awaits v by done of part left j some p h') = cc e
      guard_never _ e (confines j some p h') = cc e
  code_behind (beginning i by done task left j on' e h) = absurd (cc (sym is ∙ e))
  code_behind (ending on' h) = absurd (finalization_never s.activations s.control is h)
    where
      finalization_never : (acts : Acts) (c : Control) → c ≡ assigning → Stack types s.heap finalization acts c → ⊥
      finalization_never acts c e (to_end i cause pool [] later e2 own' once h') = cc (sym e ∙ e2)
      finalization_never acts c e (to_end i cause pool (task ∷ left) later e2 own' once h') = cc (sym e ∙ e2)
      finalization_never acts c e (to_copy i m from u to width source [] left later e2 less once operand h') = cc (sym e ∙ e2)
      finalization_never acts c e (to_copy i m from u to width source (task ∷ more) left later e2 less once operand h') = cc (sym e ∙ e2)
  code_behind (leaving i x cause pool j on' e own' h at_i gone) = absurd (cc (sym is ∙ e))
  code_behind (storing i n to width left j on' e h) = absurd (cc (sym is ∙ e))

  module _ (o : Id) (place : Place) (target : first_or Null (older (operands s)) ≡ Inside o place) where
    abbrev adjusted : List Task
    adjusted = record_tasks types t PartsFirst place.part

    by_operated : (fs : StmtsForm) (j : Control) → frame.Does fs ∷ j ≡ k → Operated types told (behind_body j) t (Inside o place) → Stack types s.heap code s.activations k
        → TreatsInside (shapes_of types) (Names o) adjusted k
    by_operated fs j same own h n has =
        safely_in types s.heap (Names o) adjusted n has told watched t s.activations k h nests
        (subst (λ (c : Control). LiesSafely types (behind_body c) (Names o) adjusted) same own.0)
        (subst (λ (c : Control). ApartBeside told (behind_body c) t (Names o)) same own.1)

    by_sought : StandsOver types s.heap s → (c : Control) → c ≡ assigning → Sought types told (operands s) c → TreatsInside (shapes_of types) (Names o) adjusted k
    by_sought over _ e (target_next p q fs j parts own h) = absurd (cc e)
    by_sought over _ e (source_next q u fs j own h) = absurd (cc e)
    by_sought over _ e (follows_path cs at u behind h) = absurd (cc e)
    by_sought over _ e (reaches_record at u behind h) = absurd (cc e)
    by_sought over _ e (both_known u fs j own h) =
        let same : u ≡ t = cc e in
        by_operated fs j (cc e) (subst (Operated types told (behind_body j) t) target (subst (λ (r : ℕ). Operated types told (behind_body j) r (first_or Null (older (operands s)))) same own)) (code_behind over)

    pub adjusts_inside : StandsOver types s.heap s → Stands types told s → TreatsInside (shapes_of types) (Names o) adjusted k
    adjusts_inside over (keeps h) = absurd ((subst (Keeps types told) is h).0)
    adjusts_inside over (seeks on' h) = by_sought over s.control is h
    adjusts_inside over (fails e raising h) = let never : Running ≡ Raising e = sym on ∙ raising in absurd (cc never)

    -- What is finalized first is the same.
    pub finalizes_inside : TreatsInside (shapes_of types) (Names o) adjusted k → TreatsInside (shapes_of types) (Names o) (record_tasks types t WholeFirst place.part) k
    finalizes_inside inside n has =
        let some = count_has n (parts_left (shapes_of types) (record_tasks types t WholeFirst place.part)) has in
        let whole = (record_first types WholeFirst t place.part).each n in
        let parts = (record_first types PartsFirst t place.part).each n in
        inside n (counted n (parts_left (shapes_of types) adjusted) (omega (arith, some, whole, parts)))
