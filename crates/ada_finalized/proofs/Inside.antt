-- While operations of an object run, what is inside of that which they are called for has its values.

use Rattle.std.proofs.Common.{◌≡◌, ◌≢◌, ℕ, suc, ◌≤◌, ◌==◌, false, List, [], ◌∷◌, Option, refl, sym, ap, ◌∙◌, inl, inr, subst, arith}
use Rattle.std.specs.List.{Contains}
use Rattle.std.proofs.lemmas.Bool.Decides.{eqb_tells}
use Rattle.ada_program.specs.declared.program.TypeDefinition.{TypeDefinition}
use Rattle.ada_program.specs.Controlled.{shapes_of}
use Rattle.ada_parts.specs.declared.tasks.Direction.{Direction}
use Rattle.ada_parts.specs.Shape.{Shape, IsTable}
use Rattle.ada_parts.specs.Part.{Part, numbers, LiesIn}
use Rattle.ada_parts.specs.Task.{Task, performs, taken, IsOpen, OfComponents}
use Rattle.ada_parts.specs.Law.{parts_left}
use Rattle.ada_parts.proofs.Facts.{eq_not}
use Rattle.ada_parts.proofs.Runs.{Known, left_taken}
use Rattle.ada_meaning.specs.declared.state.Value.{Value}
use Rattle.ada_meaning.specs.declared.event.Birth.{Birth}
use Rattle.ada_meaning.specs.declared.event.Birth.TheVariants.{Adjustment}
use Rattle.ada_meaning.specs.declared.event.Cause.{Cause}
use Rattle.ada_meaning.specs.declared.event.Cause.TheVariants.{Assigning}
use Rattle.ada_meaning.specs.Frame.{Frame, Treatment, begins, ends}
use Rattle.ada_meaning.specs.Frame as frame
use Rattle.ada_meaning.specs.Step.{treating, older}
use Rattle.ada_meaning.specs.Run.{Event}
use Rattle.ada_finalized.specs.Law.{NoOperationRunsOn, finalized_before, left_to_finalize, IsInside, TreatsInside}
use Rattle.ada_finalized.proofs.Counts.{one_if, count, count_has, count_permutation}
use Rattle.ada_finalized.proofs.Treated.{inside_gone}
use Rattle.ada_finalized.proofs.Ranks.{Heap}
use Rattle.ada_finalized.proofs.Doings.{name, same_name, Doing, Treating, Ending, doings, Calm, calm_doings, Of, Fewer, alike, fewer_treating, fewer_gains, fewer_losses, on, on_same, on_other, on_not, gains, losses}
use Rattle.ada_finalized.proofs.Stacks.{Acts, Control, Kind, code, guard, finalization, Stack, nothing, calm, comes_back, operates, awaits, confines, to_end, to_copy, ending_then, storing_then, of_treating, before_ending, before_copying}
use Rattle.ada_finalized.proofs.Invariant.{Fine}

-- What is counted is there.
pub counted : (n : ℕ) (ps : List Part) → 1 ≤ count n ps → Contains (numbers ps) n
counted n [] some = absurd (omega (arith, some))
counted n (p ∷ ps) some = elim (eqb_tells p.number n) [ inl h ↦ (0, omega arith, h.1) | inr h ↦ later h.0 (counted n ps) ]
  where
    later : (p.number == n) ≡ false → (1 ≤ count n ps → Contains (numbers ps) n) → Contains (numbers (p ∷ ps)) n
    later is again =
        let none = ap one_if is in
        let more = again (omega (arith, none, some)) in
        (suc more.0, (let lt = more.1 in omega (arith, lt)), more.2)

-- What is inside behind a frame.
calm_inside : (shapes : List Shape) (v : Value) (n : ℕ) (f : Frame Value) (k : Control) → Calm f → IsInside shapes v n (f ∷ k) → IsInside shapes v n k
calm_inside shapes v n (frame.Awaits w by done of part tasks) k c inside = absurd c
calm_inside shapes v n frame.Confines k c inside = absurd c
calm_inside shapes v n f k c inside = inside

pub treating_inside :
    (shapes : List Shape) (v : Value) (n : ℕ) (w : Value) (treatment : Treatment) (tasks : List Task) (k : Control)
    → IsInside shapes v n (treating w treatment tasks k) → IsInside shapes v n k
treating_inside shapes v n w treatment [] k inside = inside
treating_inside shapes v n w treatment (task ∷ tasks) k inside = inside

-- Where no operation of an object runs, each of its parts is.
pub none_inside : (shapes : List Shape) (v : Value) (n : ℕ) (k : Control) → NoOperationRunsOn v k → IsInside shapes v n k
none_inside shapes v n [] none = tt
none_inside shapes v n (frame.Awaits w by done of part tasks ∷ k) none = ((λ same. absurd (none.0 same)), none_inside shapes v n k none.1)
none_inside shapes v n (frame.Confines ∷ k) none = ((λ same. absurd (none.0 same)), none_inside shapes v n k none.1)
none_inside shapes v n (f ∷ k) none = none_inside shapes v n k none

-- A treatment that is inside stays so, as it goes on: a part is performed, or a component is picked.
pub inside_performed :
    (shapes : List Shape) (v : Value) (of n : ℕ) (tasks : List Task) (k : Control) → TreatsInside shapes v (performs of n ∷ tasks) k
    → TreatsInside shapes v tasks k
inside_performed shapes v of n tasks k inside m has = inside m (suc has.0, (let lt = has.1 in omega (arith, lt)), has.2)

pub inside_taken :
    (shapes : List Shape) (d : Direction) (v : Value) (tasks : List Task) (i : ℕ) (k : Control) → IsTable shapes → IsOpen tasks i
    → OfComponents (Known shapes) tasks → TreatsInside shapes v tasks k → TreatsInside shapes v (taken shapes d tasks i) k
inside_taken shapes d v tasks i k table opens known inside m has =
    let some = count_has m (parts_left shapes (taken shapes d tasks i)) has in
    let same = count_permutation m (parts_left shapes tasks) (parts_left shapes (taken shapes d tasks i)) (left_taken shapes d tasks i table opens known) in
    inside m (counted m (parts_left shapes tasks) (omega (arith, some, same)))

module _ (types : List TypeDefinition) (past : List Event) (xs : Heap) (next : ℕ) where
  abbrev shapes : List Shape
  shapes = shapes_of types

  -- What lies in a part that is to begin has begun.
  awaited_gain :
      (v : Value) (by : Birth) (done : List Part) (of part : ℕ) (tasks : List Task) (o n : ℕ)
      → Fine types past xs next (Treating v (begins by done) (performs of part ∷ tasks)) → (v ≡ name o → LiesIn shapes n (record { of = of; number = part }))
      → on v o (count n (parts_left shapes (performs of part ∷ tasks))) ≡ 0
  awaited_gain v by done of part tasks o n (i, (is, b)) inside =
      elim (eqb_tells i o) [ inl h ↦ here (is ∙ ap name h.1) | inr h ↦ on_not v o c (λ same. h.1 (same_name i o (sym is ∙ same))) ]
    where
      c : ℕ
      c = count n (parts_left shapes (performs of part ∷ tasks))

      here : v ≡ name o → on v o c ≡ 0
      here same =
          let lies = inside same in
          let before = lies.behind in
          let gone = inside_gone shapes b.all done of part tasks b.treated n lies in
          let other = ap one_if (eq_not part n (λ e. absurd (omega (arith, before, e)))) in
          let none : c ≡ 0 = omega (arith, gone, other) in
          ap (λ (u : Value). on u o c) same ∙ on_same o c ∙ none

  -- What is left to be finalized first.
  left_of_ending :
      (i : ℕ) (cause : Cause) (pool : Option ℕ) (tasks : List Task) (k : Control)
      → left_to_finalize shapes (treating (name i) (ends cause) tasks (ending_then i cause pool k)) ≡ parts_left shapes tasks
  left_of_ending i cause pool [] k = refl
  left_of_ending i cause pool (task ∷ tasks) k = refl

  left_of_copying :
      (i m first t to width : ℕ) (cause : Cause) (tasks left : List Task) (k : Control)
      → left_to_finalize shapes (treating (name i) (ends cause) tasks (frame.Copies first t ∷ storing_then i m to width left k)) ≡ parts_left shapes tasks
  left_of_copying i m first t to width cause [] left k = refl
  left_of_copying i m first t to width cause (task ∷ tasks) left k = refl

  -- No more waits for a part that is inside than is to finalize it.
  abbrev Keeps : (object part : ℕ) → List Doing → Type 0
  Keeps o n ds = gains shapes o n ds ≤ losses shapes o n ds

  abbrev AllFine : Control → Type 0
  AllFine k = Of (Fine types past xs next) (doings k)

  keeps_fewer : (o n : ℕ) (ds es : List Doing) → Fewer ds es → Keeps o n ds → Keeps o n es
  keeps_fewer o n ds es few le =
      let g = fewer_gains shapes o n ds es few in
      let l = fewer_losses shapes o n ds es few in
      omega (arith, g, l, le)

  ending_keeps :
      (i o n : ℕ) (cause : Cause) (tasks : List Task) (ds : List Doing) → (i ≡ o → 1 ≤ count n (parts_left shapes tasks)) → Keeps o n ds
      → Keeps o n (Treating (name i) (ends cause) tasks ∷ Ending (name i) ∷ ds)
  ending_keeps i o n cause tasks ds some le = elim (eqb_tells i o) [ inl h ↦ here h.1 | inr h ↦ other h.1 ]
    where
      c : ℕ
      c = count n (parts_left shapes tasks)

      here : i ≡ o → Keeps o n (Treating (name i) (ends cause) tasks ∷ Ending (name i) ∷ ds)
      here same =
          let a = on_same o 1 in
          let b = on_same o c in
          let one = some same in
          subst (λ (j : ℕ). Keeps o n (Treating (name j) (ends cause) tasks ∷ Ending (name j) ∷ ds)) (sym same) (omega (arith, a, b, one, le))

      other : i ≢ o → Keeps o n (Treating (name i) (ends cause) tasks ∷ Ending (name i) ∷ ds)
      other ne =
          let a = on_other i o 1 ne in
          omega (arith, a, le)

  copying_keeps :
      (i o n m : ℕ) (cause : Cause) (tasks left : List Task) (ds : List Doing) → count n (parts_left shapes left) ≤ 1
      → (i ≡ o → 1 ≤ count n (parts_left shapes tasks)) → Keeps o n ds
      → Keeps o n (Treating (name i) (ends cause) tasks ∷ Treating (name i) (begins (Adjustment m) []) left ∷ ds)
  copying_keeps i o n m cause tasks left ds once some le = elim (eqb_tells i o) [ inl h ↦ here h.1 | inr h ↦ other h.1 ]
    where
      c : ℕ
      c = count n (parts_left shapes tasks)

      d : ℕ
      d = count n (parts_left shapes left)

      here : i ≡ o → Keeps o n (Treating (name i) (ends cause) tasks ∷ Treating (name i) (begins (Adjustment m) []) left ∷ ds)
      here same =
          let a = on_same o d in
          let b = on_same o c in
          let one = some same in
          subst (λ (j : ℕ). Keeps o n (Treating (name j) (ends cause) tasks ∷ Treating (name j) (begins (Adjustment m) []) left ∷ ds)) (sym same)
          (omega (arith, a, b, one, once, le))

      other : i ≢ o → Keeps o n (Treating (name i) (ends cause) tasks ∷ Treating (name i) (begins (Adjustment m) []) left ∷ ds)
      other ne =
          let a = on_other i o d ne in
          omega (arith, a, le)

  pub keeps :
      (kind : Kind) (acts : Acts) (k : Control) → Stack types xs kind acts k → (o n : ℕ) → AllFine k
      → (kind ≡ finalization → finalized_before k ≡ name o → Contains (numbers (left_to_finalize shapes k)) n) → IsInside shapes (name o) n k
      → Keeps o n (doings k)
  keeps code acts _ nothing o n fine left inside = omega arith
  keeps code acts _ (calm f k c h) o n fine left inside =
      subst (Keeps o n) (sym (calm_doings f k c))
      (keeps code acts k h o n (subst (Of (Fine types past xs next)) (calm_doings f k c) fine) (λ is. absurd (cc is))
      (calm_inside shapes (name o) n f k c inside))
  keeps code acts _ (comes_back actuals references k h) o n fine left inside = keeps code (older acts) k h o n fine (λ is. absurd (cc is)) inside
  keeps code acts _ (operates k h) o n fine left inside = keeps guard (older acts) k h o n fine (λ is. absurd (cc is)) inside
  keeps guard acts _ (awaits v by done of part tasks k some p h) o n fine left inside =
      let a = awaited_gain v by done of part tasks o n fine.0 inside.0 in
      let le = keeps code acts k h o n fine.1 (λ is. absurd (cc is)) inside.1 in
      omega (arith, a, le)
  keeps guard acts _ (confines k some p h) o n fine left inside = keeps finalization acts k h o n fine (λ is. inside.0) inside.1
  keeps finalization acts control (to_end i cause pool tasks k is own once h) o n fine left inside =
      let ds = Treating (name i) (ends cause) tasks ∷ Ending (name i) ∷ doings k in
      let behind = ending_then i cause pool k in
      let few : Fewer ds (doings control) =
      subst (λ (c : Control). Fewer ds (doings c)) (sym is) (fewer_treating (name i) (ends cause) tasks (Ending (name i) ∷ doings k) behind alike) in
      let fine_behind = of_treating types xs (Fine types past xs next) (name i) (ends cause) tasks behind (subst AllFine is fine) in
      let le = keeps code acts k h o n fine_behind.1 (λ never. absurd (cc never))
      (treating_inside shapes (name o) n (name i) (ends cause) tasks behind (subst (IsInside shapes (name o) n) is inside)) in
      keeps_fewer o n ds (doings control) few
      (ending_keeps i o n cause tasks (doings k)
      (λ same.
      count_has n (parts_left shapes tasks)
      (subst (λ (ps : List Part). Contains (numbers ps) n) (ap (left_to_finalize shapes) is ∙ left_of_ending i cause pool tasks k)
      (left refl (ap finalized_before is ∙ before_ending types xs i cause pool tasks k ∙ ap name same)))) le)
  keeps finalization acts control (to_copy i m from t to width source tasks later k is less once operand h) o n fine left inside =
      let ds = Treating (name i) (ends (Assigning m)) tasks ∷ Treating (name i) (begins (Adjustment m) []) later ∷ doings k in
      let behind = frame.Copies from t ∷ storing_then i m to width later k in
      let few : Fewer ds (doings control) =
      subst (λ (c : Control). Fewer ds (doings c)) (sym is)
      (fewer_treating (name i) (ends (Assigning m)) tasks (Treating (name i) (begins (Adjustment m) []) later ∷ doings k) behind
      (fewer_treating (name i) (begins (Adjustment m) []) later (doings k) k alike)) in
      let fine_behind =
      of_treating types xs (Fine types past xs next) (name i) (begins (Adjustment m) []) later k
      (of_treating types xs (Fine types past xs next) (name i) (ends (Assigning m)) tasks behind (subst AllFine is fine)) in
      let le = keeps code acts k h o n fine_behind (λ never. absurd (cc never))
      (treating_inside shapes (name o) n (name i) (begins (Adjustment m) []) later k
      (treating_inside shapes (name o) n (name i) (ends (Assigning m)) tasks behind (subst (IsInside shapes (name o) n) is inside))) in
      keeps_fewer o n ds (doings control) few
      (copying_keeps i o n m (Assigning m) tasks later (doings k) (once n)
      (λ same.
      count_has n (parts_left shapes tasks)
      (subst (λ (ps : List Part). Contains (numbers ps) n) (ap (left_to_finalize shapes) is ∙ left_of_copying i m from t to width (Assigning m) tasks later k)
      (left refl (ap finalized_before is ∙ before_copying types xs i m from t to width (Assigning m) tasks later k ∙ ap name same)))) le)
