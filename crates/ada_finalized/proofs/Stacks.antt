-- How what is left to do stands: code, of which a jump passes all frames up to the end of an operation's body; behind that waits what the operation was
-- called for.

use Rattle.std.proofs.Common.{◌≡◌, ◌≢◌, ℕ, zero, suc, ◌+◌, ◌<◌, ◌≤◌, List, [], ◌∷◌, Option, Some, None, refl, sym, ap, ◌∙◌, subst, arith}
use Rattle.std.specs.List.{slice_get}
use Rattle.ada_program.specs.declared.program.TypeDefinition.{TypeDefinition}
use Rattle.ada_program.specs.Controlled.{OverridesNothing, shapes_of}
use Rattle.ada_program.specs.Form.{ActualForm}
use Rattle.ada_parts.specs.Part.{Part}
use Rattle.ada_parts.specs.Shape.{Shape}
use Rattle.ada_parts.specs.Task.{Task, performs}
use Rattle.ada_parts.proofs.Facts.{eq_self}
use Rattle.ada_parts.specs.Law.{parts_left}
use Rattle.ada_meaning.specs.declared.state.Id.{Id}
use Rattle.ada_meaning.specs.declared.state.Value.{Value}
use Rattle.ada_meaning.specs.declared.state.Value.TheVariants.{Null, Names}
use Rattle.ada_meaning.specs.declared.event.Birth.{Birth}
use Rattle.ada_meaning.specs.declared.event.Birth.TheVariants.{Adjustment}
use Rattle.ada_meaning.specs.declared.event.Cause.{Cause}
use Rattle.ada_meaning.specs.declared.event.Cause.TheVariants.{Assigning}
use Rattle.ada_meaning.specs.Frame.{Frame, Treatment, begins, ends}
use Rattle.ada_meaning.specs.Frame as frame
use Rattle.ada_meaning.specs.State.{Activation}
use Rattle.ada_meaning.specs.Step.{parts_held, treating, operands_of, with_operands, with_places, first_or, older}
use Rattle.ada_meaning.specs.Named.{Object}
use Rattle.ada_meaning.specs.Finalization.{assigned_by}
use Rattle.ada_meaning.specs.Life.{KeepsObjects}
use Rattle.ada_finalized.specs.Law.{NoOperationRuns, finalized_before, NoOperationRunsOn}
use Rattle.ada_finalized.proofs.Counts.{one_if, count}
use Rattle.ada_finalized.proofs.Ranks.{Heap}
use Rattle.ada_finalized.proofs.Doings.{name, same_name, Doing, Treating, Ending, doings, Calm, rest, calm_rest, calm_doings, Of, Other, Fewer, fewer_of, alike, fewer_treating, Lasts, lasting_gain, on, on_less, on_same, on_other, gains, losses, fewer_gains, fewer_losses}

abbrev pub Acts : Type 0
Acts = List (Activation Value)

abbrev pub Control : Type 0
Control = List (Frame Value)

-- Some type overrides an operation.
abbrev pub Overrides : List TypeDefinition → Type 0
Overrides types = OverridesNothing types → ⊥

-- What is left to do behind the first part of an assignment: a record is copied, and then the target is adjusted.
abbrev pub storing_then : (object : ℕ) → (n to width : ℕ) → List Task → Control → Control
storing_then o n to width tasks k = frame.StoresRecord (name o) to width ∷ treating (name o) (begins (Adjustment n) []) tasks k

abbrev pub ending_then : (object : ℕ) → Cause → (pool : Option ℕ) → Control → Control
ending_then o cause pool k = frame.Ends (name o) ∷ frame.GivesBack (name o) cause pool ∷ k

-- An object has a part of this number.
abbrev pub IsPart : List TypeDefinition → Heap → (object part : ℕ) → Type 0
IsPart types xs o n = (x : Object) × ((slice_get xs o ≡ Some x) × (n < parts_held types x.cell.access))

abbrev pub HasPart : List TypeDefinition → Heap → Value → (part : ℕ) → Type 0
HasPart types xs v n = (o : ℕ) × ((v ≡ name o) × IsPart types xs o n)

-- A part of an object is to be without a value at its end, or to get one, and is not to be finalized before.
abbrev pub IsSpare : List TypeDefinition → (object part : ℕ) → List Doing → Type 0
IsSpare types o n ds = losses (shapes_of types) o n ds < gains (shapes_of types) o n ds

-- The object of a finalization has a part that was finalized.
abbrev pub Spared : List TypeDefinition → Heap → Control → Type 0
Spared types xs k = (o : ℕ) × ((n : ℕ) × ((finalized_before k ≡ name o) × (IsPart types xs o n × IsSpare types o n (doings k))))

-- Code; the end of an operation's body; what is left of a finalization, and what it was begun for.
pub data Kind : Type 0 where
  code : Kind
  guard : Kind
  finalization : Kind

pub data Stack (types : List TypeDefinition) (xs : Heap) : Kind → Acts → Control → Type 0 where
  nothing : {acts : Acts} → Stack types xs code acts []
  calm : {acts : Acts} (f : Frame Value) (k : Control) → Calm f → Stack types xs code acts k → Stack types xs code acts (f ∷ k)
  comes_back :
      {acts : Acts} (actuals : List ActualForm) (references : List Value) (k : Control) → Stack types xs code (older acts) k
      → Stack types xs code acts (frame.Returns actuals references ∷ k)
  operates : {acts : Acts} (k : Control) → Stack types xs guard (older acts) k → Stack types xs code acts (frame.Returns [] [] ∷ k)
  awaits :
      {acts : Acts} (v : Value) (by : Birth) (done : List Part) (of part : ℕ) (tasks : List Task) (k : Control) → Overrides types
      → HasPart types xs v part → Stack types xs code acts k → Stack types xs guard acts (frame.Awaits v by done of part tasks ∷ k)
  confines : {acts : Acts} (k : Control) → Overrides types → Spared types xs k → Stack types xs finalization acts k → Stack types xs guard acts (frame.Confines ∷ k)
  to_end :
      {acts : Acts} {control : Control} (o : ℕ) (cause : Cause) (pool : Option ℕ) (tasks : List Task) (k : Control)
      → control ≡ treating (name o) (ends cause) tasks (ending_then o cause pool k) → assigned_by (Some cause) ≡ None
      → ((n : ℕ) → count n (parts_left (shapes_of types) tasks) ≤ 1) → Stack types xs code acts k → Stack types xs finalization acts control
  to_copy :
      {acts : Acts} {control : Control} (o n first t to width : ℕ) (source : Id) (tasks left : List Task) (k : Control)
      → control ≡ treating (name o) (ends (Assigning n)) tasks (frame.Copies first t ∷ storing_then o n to width left k)
      → ((m : ℕ) → count m (parts_left (shapes_of types) tasks) ≤ count m (parts_left (shapes_of types) left))
      → ((m : ℕ) → count m (parts_left (shapes_of types) left) ≤ 1) → first_or Null (operands_of acts) ≡ Names source → Stack types xs code acts k → Stack types xs finalization acts control

-- The running activation alone does not count.
pub stack_acts : (types : List TypeDefinition) (xs : Heap) (acts bs : Acts) (k : Control) → older acts ≡ older bs → Stack types xs code acts k → Stack types xs code bs k
stack_acts types xs acts bs _ same nothing = nothing
stack_acts types xs acts bs _ same (calm f k c h) = calm f k c (stack_acts types xs acts bs k same h)
stack_acts types xs acts bs _ same (comes_back actuals references k h) =
    comes_back actuals references k (subst (λ (cs : Acts). Stack types xs code cs k) same h)
stack_acts types xs acts bs _ same (operates k h) = operates k (subst (λ (cs : Acts). Stack types xs guard cs k) same h)

pub older_operands : (vs : List Value) (acts : Acts) → older (with_operands vs acts) ≡ older acts
older_operands vs [] = refl
older_operands vs (a ∷ acts) = refl

pub older_places : (vs : List Value) (acts : Acts) → older (with_places vs acts) ≡ older acts
older_places vs [] = refl
older_places vs (a ∷ acts) = refl

-- Calm frames do not count.
pub stack_rest : (types : List TypeDefinition) (xs : Heap) (acts : Acts) (k : Control) → Stack types xs code acts k → Stack types xs code acts (rest k)
stack_rest types xs acts _ nothing = nothing
stack_rest types xs acts _ (calm f k c h) = subst (Stack types xs code acts) (sym (calm_rest f k c)) (stack_rest types xs acts k h)
stack_rest types xs acts _ (comes_back actuals references k h) = comes_back actuals references k h
stack_rest types xs acts _ (operates k h) = operates k h

stack_from : (types : List TypeDefinition) (xs : Heap) (acts : Acts) (k : Control) → Stack types xs code acts (rest k) → Stack types xs code acts k
stack_from types xs acts [] h = h
stack_from types xs acts (frame.Treats v treatment tasks ∷ k) h = h
stack_from types xs acts (frame.Awaits v by done of part tasks ∷ k) h = h
stack_from types xs acts (frame.Confines ∷ k) h = h
stack_from types xs acts (frame.Assigns t ∷ k) h = h
stack_from types xs acts (frame.Ends v ∷ k) h = h
stack_from types xs acts (frame.GivesBack v cause pool ∷ k) h = h
stack_from types xs acts (frame.Returns actuals references ∷ k) h = h
stack_from types xs acts (f ∷ k) h = calm f k tt (stack_from types xs acts k h)

pub stack_alike : (types : List TypeDefinition) (xs : Heap) (acts : Acts) (k j : Control) → rest j ≡ rest k → Stack types xs code acts k → Stack types xs code acts j
stack_alike types xs acts k j same h = stack_from types xs acts j (subst (Stack types xs code acts) (sym same) (stack_rest types xs acts k h))

-- Parts stay.
part_kept : (types : List TypeDefinition) (xs ys : Heap) (o n : ℕ) → KeepsObjects xs ys → IsPart types xs o n → IsPart types ys o n
part_kept types [] ys o n k (x, (is, lt)) = absurd (cc is)
part_kept types (z ∷ xs) [] o n k p = absurd k
part_kept types (z ∷ xs) (y ∷ ys) zero n k (x, (is, lt)) =
    let one : z ≡ x = cc is in
    (y, (refl, subst (λ (access : ℕ). n < parts_held types access) (sym (k.0.access ∙ ap (λ (u : Object). u.cell.access) one)) lt))
part_kept types (z ∷ xs) (y ∷ ys) (suc o) n k (x, (is, lt)) = part_kept types xs ys o n k.1 (x, (is, lt))

module _ (types : List TypeDefinition) (xs ys : Heap) (keeps : KeepsObjects xs ys) where
  pub stack_on : {kind : Kind} {acts : Acts} {k : Control} → Stack types xs kind acts k → Stack types ys kind acts k
  stack_on nothing = nothing
  stack_on (calm f k c h) = calm f k c (stack_on h)
  stack_on (comes_back actuals references k h) = comes_back actuals references k (stack_on h)
  stack_on (operates k h) = operates k (stack_on h)
  stack_on (awaits v by done of part tasks k some (o, (is, p)) h) =
      awaits v by done of part tasks k some (o, (is, part_kept types xs ys o part keeps p)) (stack_on h)
  stack_on (confines k some (o, (n, (is, (p, spare)))) h) = confines k some (o, (n, (is, (part_kept types xs ys o n keeps p, spare)))) (stack_on h)
  stack_on (to_end o cause pool tasks k is own once h) = to_end o cause pool tasks k is own once (stack_on h)
  stack_on (to_copy o n first t to width source tasks left k is less once operand h) =
      to_copy o n first t to width source tasks left k is less once operand (stack_on h)

-- Each part that is to be finalized is to be without a value behind that.
abbrev pub Covers : List TypeDefinition → List Doing → Type 0
Covers types ds = (j n : ℕ) → losses (shapes_of types) j n ds ≤ gains (shapes_of types) j n ds

module _ (types : List TypeDefinition) (xs : Heap) where
  abbrev shapes : List Shape
  shapes = shapes_of types

  fewer_covers : (ds es : List Doing) → Fewer ds es → Covers types ds → Covers types es
  fewer_covers ds es f c j n =
      let a = fewer_gains shapes j n ds es f in let b = fewer_losses shapes j n ds es f in let d = c j n in omega (arith, a, b, d)

  pub covered : (kind : Kind) (acts : Acts) (k : Control) → Stack types xs kind acts k → Covers types (doings k)
  covered code acts _ nothing j n = omega arith
  covered code acts _ (calm f k c h) j n = subst (Covers types) (sym (calm_doings f k c)) (covered code acts k h) j n
  covered code acts _ (comes_back actuals references k h) j n = covered code (older acts) k h j n
  covered code acts _ (operates k h) j n = covered guard (older acts) k h j n
  covered guard acts _ (awaits v by done of part tasks k some p h) j n = let le = covered code acts k h j n in omega (arith, le)
  covered guard acts _ (confines k some p h) j n = covered finalization acts k h j n
  covered finalization acts control (to_end o cause pool tasks k is own once h) j n =
      subst (λ (c : Control). Covers types (doings c)) (sym is)
      (fewer_covers (Treating (name o) (ends cause) tasks ∷ Ending (name o) ∷ doings k) (doings (treating (name o) (ends cause) tasks (ending_then o cause pool k)))
      (fewer_treating (name o) (ends cause) tasks (Ending (name o) ∷ doings k) (ending_then o cause pool k) alike)
      (λ i m. let a = on_less (name o) i (count m (parts_left shapes tasks)) 1 (once m) in let le = covered code acts k h i m in omega (arith, a, le))) j n
  covered finalization acts control (to_copy o m from t to width source tasks left k is less once operand h) j n =
      subst (λ (c : Control). Covers types (doings c)) (sym is)
      (fewer_covers (Treating (name o) (ends (Assigning m)) tasks ∷ Treating (name o) (begins (Adjustment m) []) left ∷ doings k)
      (doings (treating (name o) (ends (Assigning m)) tasks (frame.Copies from t ∷ storing_then o m to width left k)))
      (fewer_treating (name o) (ends (Assigning m)) tasks (Treating (name o) (begins (Adjustment m) []) left ∷ doings k) (frame.Copies from t ∷ storing_then o m to width left k)
      (fewer_treating (name o) (begins (Adjustment m) []) left (doings k) k alike))
      (λ i p.
      let a = on_less (name o) i (count p (parts_left shapes tasks)) (count p (parts_left shapes left)) (less p) in
      let le = covered code acts k h i p in
      omega (arith, a, le))) j n

  -- Where no operation runs, nothing is done behind code.
  pub guard_never : (acts : Acts) (k : Control) → Stack types xs guard acts k → NoOperationRuns k → ⊥
  guard_never acts _ (awaits v by done of part tasks k some p h) still = cc still.0
  guard_never acts _ (confines k some p h) still = cc still.0

  pub none_behind : (acts : Acts) (k : Control) → Stack types xs code acts k → NoOperationRuns k → doings k ≡ []
  none_behind acts _ nothing still = refl
  none_behind acts _ (calm f k c h) still = calm_doings f k c ∙ none_behind acts k h still.1
  none_behind acts _ (comes_back actuals references k h) still = none_behind (older acts) k h still.1
  none_behind acts _ (operates k h) still = absurd (guard_never (older acts) k h still.1)

  -- Nothing is done behind code to an object of which no part is spared.
  abbrev pub Never : ℕ → List Doing → Type 0
  Never o ds = (n : ℕ) → IsPart types xs o n → IsSpare types o n ds → ⊥

  never_on :
      (o : ℕ) (ds es : List Doing)
      → ((n : ℕ) → gains (shapes_of types) o n ds + losses (shapes_of types) o n es ≤ gains (shapes_of types) o n es + losses (shapes_of types) o n ds)
      → Never o es → Never o ds
  never_on o ds es more never n p spare = never n p (let le = more n in omega (arith, spare, le))

  one_more : (of n : ℕ) (tasks : List Task) → 1 ≤ count n (parts_left (shapes_of types) (performs of n ∷ tasks))
  one_more of n tasks = let one = ap one_if (eq_self n) in omega (arith, one)

  pub before_ending : (o : ℕ) (cause : Cause) (pool : Option ℕ) (tasks : List Task) (k : Control) → finalized_before (treating (name o) (ends cause) tasks (ending_then o cause pool k)) ≡ name o
  before_ending o cause pool [] k = refl
  before_ending o cause pool (task ∷ tasks) k = refl

  pub before_copying :
      (o n first t to width : ℕ) (cause : Cause) (tasks left : List Task) (k : Control)
      → finalized_before (treating (name o) (ends cause) tasks (frame.Copies first t ∷ storing_then o n to width left k)) ≡ name o
  before_copying o n first t to width cause [] left k = refl
  before_copying o n first t to width cause (task ∷ tasks) left k = refl

  pub others : (kind : Kind) (acts : Acts) (k : Control) → Stack types xs kind acts k → (o : ℕ) → (kind ≡ finalization → finalized_before k ≡ name o → ⊥) → Never o (doings k) → Of (Other o) (doings k)
  others code acts _ nothing o apart never = tt
  others code acts _ (calm f k c h) o apart never =
      subst (Of (Other o)) (sym (calm_doings f k c)) (others code acts k h o (λ is. absurd (cc is)) (subst (Never o) (calm_doings f k c) never))
  others code acts _ (comes_back actuals references k h) o apart never = others code (older acts) k h o (λ is. absurd (cc is)) never
  others code acts _ (operates k h) o apart never = others guard (older acts) k h o (λ is. absurd (cc is)) never
  others guard acts _ (awaits v by done of part tasks k some (i, (is, p)) h) o apart never = (
    (λ same.
        let e : i ≡ o = same_name i o (sym is ∙ same) in
        let le = covered code acts k h o part in
        let a = ap (λ (u : Value). on u o (count part (parts_left (shapes_of types) (performs of part ∷ tasks)))) same in
        let b = on_same o (count part (parts_left (shapes_of types) (performs of part ∷ tasks))) in
        let c = one_more of part tasks in
        never part (subst (λ (j : ℕ). IsPart types xs j part) e p) (omega (arith, le, a, b, c))),
    others code acts k h o (λ never_is. absurd (cc never_is))
        (never_on o (doings k) (Treating v (begins by done) (performs of part ∷ tasks) ∷ doings k) (λ n. omega arith) never),
  )
  others guard acts _ (confines k some (i, (n, (is, (p, spare)))) h) o apart never =
      others finalization acts k h o (λ kind_is same.
      let e : i ≡ o = same_name i o (sym is ∙ same) in
      never n (subst (λ (j : ℕ). IsPart types xs j n) e p) (subst (λ (j : ℕ). IsSpare types j n (doings k)) e spare)) never
  others finalization acts control (to_end i cause pool tasks k is own once h) o apart never =
      let ds = Treating (name i) (ends cause) tasks ∷ Ending (name i) ∷ doings k in
      let ne : i ≢ o = λ same. apart refl (ap finalized_before is ∙ before_ending i cause pool tasks k ∙ ap name same) in
      let few : Fewer ds (doings control) =
      subst (λ (c : Control). Fewer ds (doings c)) (sym is)
      (fewer_treating (name i) (ends cause) tasks (Ending (name i) ∷ doings k) (ending_then i cause pool k) alike) in
      fewer_of (Other o) ds (doings control) few (
        (λ same. ne (same_name i o same)),
        (
          (λ same. ne (same_name i o same)),
          others code acts k h o (λ never_is. absurd (cc never_is))
              (never_on o (doings k) (doings control)
              (λ n.
              let g = fewer_gains shapes o n ds (doings control) few in
              let l = fewer_losses shapes o n ds (doings control) few in
              let a = on_other i o (count n (parts_left shapes tasks)) ne in
              let b = on_other i o 1 ne in
              omega (arith, g, l, a, b)) never),
        ),
      )
  others finalization acts control (to_copy i m from t to width source tasks left k is less once operand h) o apart never =
      let ds = Treating (name i) (ends (Assigning m)) tasks ∷ Treating (name i) (begins (Adjustment m) []) left ∷ doings k in
      let ne : i ≢ o = λ same. apart refl (ap finalized_before is ∙ before_copying i m from t to width (Assigning m) tasks left k ∙ ap name same) in
      let few : Fewer ds (doings control) =
      subst (λ (c : Control). Fewer ds (doings c)) (sym is)
      (fewer_treating (name i) (ends (Assigning m)) tasks (Treating (name i) (begins (Adjustment m) []) left ∷ doings k) (frame.Copies from t ∷ storing_then i m to width left k)
      (fewer_treating (name i) (begins (Adjustment m) []) left (doings k) k alike)) in
      fewer_of (Other o) ds (doings control) few (
        (λ same. ne (same_name i o same)),
        (
          (λ same. ne (same_name i o same)),
          others code acts k h o (λ never_is. absurd (cc never_is))
              (never_on o (doings k) (doings control)
              (λ n.
              let g = fewer_gains shapes o n ds (doings control) few in
              let l = fewer_losses shapes o n ds (doings control) few in
              let a = on_other i o (count n (parts_left shapes tasks)) ne in
              let b = on_other i o (count n (parts_left shapes left)) ne in
              omega (arith, g, l, a, b)) never),
        ),
      )

  -- No operation of an object runs for whose parts nothing waits.
  on_calm : (v : Value) (f : Frame Value) (k : Control) → Calm f → NoOperationRunsOn v k → NoOperationRunsOn v (f ∷ k)
  on_calm v (frame.Awaits w by done of part tasks) k c on_v = absurd c
  on_calm v frame.Confines k c on_v = absurd c
  on_calm v f k c on_v = on_v

  pub on_treating : (v w : Value) (treatment : Treatment) (tasks : List Task) (k : Control) → NoOperationRunsOn v k → NoOperationRunsOn v (treating w treatment tasks k)
  on_treating v w treatment [] k on_v = on_v
  on_treating v w treatment (task ∷ tasks) k on_v = on_v

  pub of_treating : (P : Doing → Type 0) (v : Value) (treatment : Treatment) (tasks : List Task) (k : Control) → Of P (doings (treating v treatment tasks k)) → Of P (doings k)
  of_treating P v treatment [] k h = h
  of_treating P v treatment (task ∷ tasks) k h = h.1

  pub none_of_lasting : (kind : Kind) (acts : Acts) (k : Control) → Stack types xs kind acts k → (o : ℕ) → Of (Lasts o) (doings k) → NoOperationRunsOn (name o) k
  none_of_lasting code acts _ nothing o lasts = tt
  none_of_lasting code acts _ (calm f k c h) o lasts =
      on_calm (name o) f k c (none_of_lasting code acts k h o (subst (Of (Lasts o)) (calm_doings f k c) lasts))
  none_of_lasting code acts _ (comes_back actuals references k h) o lasts = none_of_lasting code (older acts) k h o lasts
  none_of_lasting code acts _ (operates k h) o lasts = none_of_lasting guard (older acts) k h o lasts
  none_of_lasting guard acts _ (awaits v by done of part tasks k some p h) o lasts = (lasts.0, none_of_lasting code acts k h o lasts.1)
  none_of_lasting guard acts _ (confines k some (i, (n, (is, (p, spare)))) h) o lasts = (
    (λ same.
        let e : i ≡ o = same_name i o (sym is ∙ same) in
        let left = subst (λ (j : ℕ). IsSpare types j n (doings k)) e spare in
        let none = lasting_gain shapes o n (doings k) lasts in
        absurd (omega (arith, left, none))),
    none_of_lasting finalization acts k h o lasts,
  )
  none_of_lasting finalization acts control (to_end i cause pool tasks k is own once h) o lasts =
      let behind = ending_then i cause pool k in
      let left = of_treating (Lasts o) (name i) (ends cause) tasks behind (subst (λ (c : Control). Of (Lasts o) (doings c)) is lasts) in
      subst (NoOperationRunsOn (name o)) (sym is) (on_treating (name o) (name i) (ends cause) tasks behind (none_of_lasting code acts k h o left.1))
  none_of_lasting finalization acts control (to_copy i m from t to width source tasks later k is less once operand h) o lasts =
      let behind = frame.Copies from t ∷ storing_then i m to width later k in
      let left = of_treating (Lasts o) (name i) (ends (Assigning m)) tasks behind (subst (λ (c : Control). Of (Lasts o) (doings c)) is lasts) in
      let none = none_of_lasting code acts k h o (of_treating (Lasts o) (name i) (begins (Adjustment m) []) later k left) in
      subst (NoOperationRunsOn (name o)) (sym is)
      (on_treating (name o) (name i) (ends (Assigning m)) tasks behind (on_treating (name o) (name i) (begins (Adjustment m) []) later k none))
