-- Where code comes next, the parts that are inside of each operation of their object that runs have their values; and a treatment that is inside stays so.

use Rattle.std.proofs.Common.{◌≡◌, ℕ, ℤ, ◌≤◌, Bool, true, false, List, [], ◌∷◌, Some, refl, sym, ap, ◌∙◌, subst, arith}
use Rattle.std.specs.List.{slice_get, Contains}
use Rattle.ada_program.specs.declared.program.Program.{Program}
use Rattle.ada_program.specs.declared.program.TypeDefinition.{TypeDefinition}
use Rattle.ada_program.specs.Controlled.{shapes_of}
use Rattle.ada_parts.specs.Shape.{Shape}
use Rattle.ada_parts.specs.Part.{Part, numbers, LiesIn}
use Rattle.ada_parts.specs.Task.{Task, performs, IsOpen, OfComponents}
use Rattle.ada_parts.specs.Law.{parts_left}
use Rattle.ada_parts.proofs.Runs.{Known}
use Rattle.ada_meaning.specs.declared.state.Id.{Id}
use Rattle.ada_meaning.specs.declared.state.Stage.TheVariants.{Existing}
use Rattle.ada_meaning.specs.declared.state.Value.{Value}
use Rattle.ada_meaning.specs.declared.state.Value.TheVariants.{Names}
use Rattle.ada_meaning.specs.declared.event.Birth.{Birth}
use Rattle.ada_meaning.specs.declared.event.Cause.{Cause}
use Rattle.ada_meaning.specs.Frame.{Frame, Treatment, begins, ends}
use Rattle.ada_meaning.specs.Frame as frame
use Rattle.ada_meaning.specs.Heap.{PartState}
use Rattle.ada_meaning.specs.Step.{open_count, member_at, direction_of, picked_task, treating}
use Rattle.ada_meaning.specs.Named.{Object, State}
use Rattle.ada_meaning.specs.Run.{Event, Run, first_state}
use Rattle.ada_meaning.proofs.Treatments.{member_open, are_table}
use Rattle.ada_finalized.specs.Law.{is_code, IsInside, TreatsInside, InnerPartsStand, BegunInside, LeftToFinalize}
use Rattle.ada_finalized.proofs.Treated.{none_in, inside_called, clearing_inside}
use Rattle.ada_finalized.proofs.Ranks.{Heap}
use Rattle.ada_finalized.proofs.Doings.{name, same_name, Treating, doings, rest, rest_doings, Of, gains, losses}
use Rattle.ada_finalized.proofs.Stacks.{Acts, Control, code, guard, finalization, Stack, awaits, confines, to_end, to_copy, ending_then, storing_then}
use Rattle.ada_finalized.proofs.Claims.{Claimed}
use Rattle.ada_finalized.proofs.Invariant.{Exists, IsThere, Fine, AssignsThen, Stands, runs, finding, passing, ends_operation, beginning, ending, leaving, storing, Fits}
use Rattle.ada_finalized.proofs.Going.{alive_of}
use Rattle.ada_finalized.proofs.Runs.{past_then, last_holds}
use Rattle.ada_finalized.proofs.Inside.{counted, none_inside, inside_taken, keeps}

-- Code comes next, if anything does.
abbrev first_code : Control → Bool
first_code [] = true
first_code (f ∷ k) = is_code f

code_inside :
    (types : List TypeDefinition) (v : Value) (n : ℕ) (f : Frame Value) (k : Control) → is_code f ≡ true → IsInside (shapes_of types) v n k
    → IsInside (shapes_of types) v n (f ∷ k)
code_inside types v n (frame.Awaits w by done of part tasks) k is inside = absurd (cc is)
code_inside types v n frame.Confines k is inside = absurd (cc is)
code_inside types v n f k is inside = inside

-- Frames that no jump and no treatment stops at do not count.
inside_rest : (types : List TypeDefinition) (v : Value) (n : ℕ) (k : Control) → IsInside (shapes_of types) v n k → IsInside (shapes_of types) v n (rest k)
inside_rest types v n [] inside = tt
inside_rest types v n (frame.Treats w treatment tasks ∷ k) inside = inside
inside_rest types v n (frame.Awaits w by done of part tasks ∷ k) inside = inside
inside_rest types v n (frame.Confines ∷ k) inside = inside
inside_rest types v n (frame.Assigns t ∷ k) inside = inside
inside_rest types v n (frame.Ends w ∷ k) inside = inside
inside_rest types v n (frame.GivesBack w cause pool ∷ k) inside = inside
inside_rest types v n (frame.Returns actuals references ∷ k) inside = inside
inside_rest types v n (f ∷ k) inside = inside_rest types v n k inside

module _ (types : List TypeDefinition) (past : List Event) (s : State) (o n : ℕ) where
  -- No more waits for the part than is to finalize it.
  abbrev Keeps : Control → Type 0
  Keeps k = gains (shapes_of types) o n (doings k) ≤ losses (shapes_of types) o n (doings k)

  abbrev AllFine : Control → Type 0
  AllFine k = Of (Fine types past s.heap s.next) (doings k)

  abbrev Inside : Control → Type 0
  Inside k = IsInside (shapes_of types) (name o) n k

  code_keeps : (acts : Acts) (k : Control) → Stack types s.heap code acts k → AllFine k → Inside k → Keeps k
  code_keeps acts k h fine inside = keeps types past s.heap s.next code acts k h o n fine (λ never. absurd (cc never)) inside

  guard_never : (acts : Acts) (c : Control) → Stack types s.heap guard acts c → first_code c ≡ true → ⊥
  guard_never acts _ (awaits v by done of part tasks k some p h) is = cc is
  guard_never acts _ (confines k some p h) is = cc is

  by_first : (c k : Control) → c ≡ k → first_code k ≡ false → first_code c ≡ true → ⊥
  by_first c k same other is = let never : true ≡ false = sym is ∙ ap first_code same ∙ other in cc never

  finalization_never : (acts : Acts) (c : Control) → Stack types s.heap finalization acts c → first_code c ≡ true → ⊥
  finalization_never acts c (to_end i cause pool [] k e own once h) is = by_first c (ending_then i cause pool k) e refl is
  finalization_never acts c (to_end i cause pool (task ∷ tasks) k e own once h) is =
      by_first c (frame.Treats (name i) (ends cause) (task ∷ tasks) ∷ ending_then i cause pool k) e refl is
  finalization_never acts c (to_copy i m from t to width source [] later k e less once operand h) is =
      by_first c (frame.Copies from t ∷ storing_then i m to width later k) e refl is
  finalization_never acts c (to_copy i m from t to width source (task ∷ tasks) later k e less once operand h) is = by_first c _ e refl is

  assigns_keeps : (acts : Acts) (k : Control) → AssignsThen types s.heap acts k → AllFine k → Inside k → Keeps k
  assigns_keeps acts [] after fine inside = absurd after
  assigns_keeps acts (frame.Assigns t ∷ k) after fine inside = code_keeps acts k after fine inside
  assigns_keeps acts (f ∷ k) after fine inside = absurd after

  assigning_keeps : AssignsThen types s.heap s.activations (rest s.control) → AllFine s.control → Inside s.control → Keeps s.control
  assigning_keeps after fine inside =
      let same = rest_doings s.control in
      subst (λ ds. gains (shapes_of types) o n ds ≤ losses (shapes_of types) o n ds) same
      (assigns_keeps s.activations (rest s.control) after (subst (Of (Fine types past s.heap s.next)) (sym same) fine)
      (inside_rest types (name o) n s.control inside))

  state_keeps : Stands types s.heap s → first_code s.control ≡ true → AllFine s.control → Inside s.control → Keeps s.control
  state_keeps (runs h) is fine inside = code_keeps s.activations s.control h fine inside
  state_keeps (finding running g after) is fine inside = assigning_keeps after fine inside
  state_keeps (passing e raises p after) is fine inside = assigning_keeps after fine inside
  state_keeps (ends_operation h) is fine inside = absurd (guard_never s.activations s.control h is)
  state_keeps (beginning i by done task tasks k running c h) is fine inside = absurd (by_first s.control _ c refl is)
  state_keeps (ending running h) is fine inside = absurd (finalization_never s.activations s.control h is)
  state_keeps (leaving i x cause pool k running c own h at_o gone) is fine inside =
      subst Keeps (sym c) (code_keeps s.activations k h (subst AllFine c fine) (subst Inside c inside))
  state_keeps (storing i m to width tasks k running c h) is fine inside = absurd (by_first s.control _ c refl is)

  -- So it has its value.
  part_stands :
      (x : Object) → slice_get s.heap o ≡ Some x → x.stage ≡ Existing → Fits types past s → first_code s.control ≡ true → Inside s.control
      → (p : PartState) → slice_get x.cell.parts n ≡ Some p → p.alive ≡ true
  part_stands x at_o stage fits is inside p at_n =
      let shapes = shapes_of types in
      let ds = doings s.control in
      let le = state_keeps fits.stands is fits.inv.fine inside in
      let c = subst (λ found. Claimed found n (gains shapes o n ds) (losses shapes o n ds)) at_o (fits.inv.claims o n) stage p at_n in
      alive_of p.alive (omega (arith, le, c))

pub inner_parts_stand : InnerPartsStand
inner_parts_stand program input events last run f k is by_code o x at_o stage n inside p at_n =
    let types = program.types.items in
    let fits = (last_holds program input events last run).fits in
    part_stands types (past_then events []) last o.0 n x at_o stage fits (ap first_code is ∙ by_code)
    (subst (IsInside (shapes_of types) (Names o) n) (sym is) (code_inside types (Names o) n f k by_code inside)) p at_n

-- What something is done to exists.
exists_stage : (xs : Heap) (o : Id) (x : Object) → slice_get xs o.0 ≡ Some x → Exists xs (Names o) → x.stage ≡ Existing
exists_stage xs o x at_o (i, (same, (y, (at_i, stage)))) =
    let both : Some x ≡ Some y = sym at_o ∙ ap (slice_get xs) (same_name o.0 i same) ∙ at_i in
    let one : x ≡ y = cc both in
    ap (λ (z : Object). z.stage) one ∙ stage

pub begun_inside : BegunInside
begun_inside program input events last run ds fs hs o by done of m tasks k is none x at_o n lies p at_n =
    let types = program.types.items in
    let there = subst (λ (c : Control). Of (IsThere last.heap) (doings c)) is (last_holds program input events last run).fits.inv.there in
    let behind = frame.Returns [] [] ∷ frame.Awaits (Names o) by done of m tasks ∷ k in
    inner_parts_stand program input events last run (frame.Elaborates ds fs hs) behind is refl o x at_o
    (exists_stage last.heap o x at_o there.0) n ((λ same. lies), none_inside (shapes_of types) (Names o) n k none) p at_n

pub left_to_finalize_stands : LeftToFinalize
left_to_finalize_stands program input events last run ds fs hs o cause tasks k is none x at_o n has p at_n =
    let types = program.types.items in
    let there = subst (λ (c : Control). Of (IsThere last.heap) (doings c)) is (last_holds program input events last run).fits.inv.there in
    let behind = frame.Returns [] [] ∷ frame.Confines ∷ frame.Treats (Names o) (ends cause) tasks ∷ k in
    inner_parts_stand program input events last run (frame.Elaborates ds fs hs) behind is refl o x at_o
    (exists_stage last.heap o x at_o there.0) n ((λ same. has), none_inside (shapes_of types) (Names o) n k none) p at_n

-- A treatment that comes next is fine.
next_fine :
    (program : Program) (input : List ℤ) (events : List Event) (last : State) → Run program (first_state program input) events last
    → (v : Value) (treatment : Treatment) (tasks : List Task) (k : Control) → last.control ≡ frame.Treats v treatment tasks ∷ k
    → Fine program.types.items (past_then events []) last.heap last.next (Treating v treatment tasks)
next_fine program input events last run v treatment tasks k is =
    (subst (λ (c : Control). Of (Fine program.types.items (past_then events []) last.heap last.next) (doings c)) is
    (last_holds program input events last run).fits.inv.fine).0

-- One that is inside stays so where a component is picked, as it does where a part is performed (`inside_performed`).
known_left :
    (types : List TypeDefinition) (past : List Event) (xs : Heap) (next : ℕ) (v : Value) (treatment : Treatment) (tasks : List Task)
    → Fine types past xs next (Treating v treatment tasks) → OfComponents (Known (shapes_of types)) tasks
known_left types past xs next v (begins by done) tasks fine = fine.1.1.treated.known
known_left types past xs next v (ends cause) tasks fine = fine.1.1.clearing.known

pub inside_picked :
    (program : Program) (input : List ℤ) (events : List Event) (last : State) → Run program (first_state program input) events last
    → (v : Value) (treatment : Treatment) (tasks : List Task) (k : Control) → last.control ≡ frame.Treats v treatment tasks ∷ k → (i : ℕ) → IsOpen tasks i
    → TreatsInside (shapes_of program.types.items) v tasks k
    → TreatsInside (shapes_of program.types.items) v (picked_task (shapes_of program.types.items) (direction_of treatment) tasks i) k
inside_picked program input events last run v treatment tasks k is i opens inside =
    let types = program.types.items in
    let fine = next_fine program input events last run v treatment tasks k is in
    inside_taken (shapes_of types) (direction_of treatment) v tasks (member_at (direction_of treatment) (open_count tasks) i) k (are_table types)
    (member_open (direction_of treatment) tasks i opens) (known_left types (past_then events []) last.heap last.next v treatment tasks fine) inside

-- Where an operation of a part is called, what lies in that part is inside of it, too, if the treatment is inside: so what the body of the operation assigns to
-- may have operations of its own. Of what is initialized or adjusted, that has begun.
pub begun_operation_inside :
    (program : Program) (input : List ℤ) (events : List Event) (last : State) → Run program (first_state program input) events last
    → (v : Value) (by : Birth) (done : List Part) (of n : ℕ) (tasks : List Task) (k : Control)
    → last.control ≡ frame.Treats v (begins by done) (performs of n ∷ tasks) ∷ k
    → ((m : ℕ) → Contains (numbers done) m → IsInside (shapes_of program.types.items) v m k) → (m : ℕ)
    → LiesIn (shapes_of program.types.items) m (record { of = of; number = n })
    → IsInside (shapes_of program.types.items) v m (frame.Awaits v by done of n tasks ∷ k)
begun_operation_inside program input events last run v by done of n tasks k is inside m lies =
    let types = program.types.items in
    let b = (next_fine program input events last run v (begins by done) (performs of n ∷ tasks) k is).1.1 in
    ((λ same. lies), inside m (counted m done (inside_called (shapes_of types) b.all done of n tasks b.treated m lies)))

-- Of what is finalized, that is left.
left_inside :
    (shapes : List Shape) (v : Value) (cause : Cause) (m : ℕ) (tasks : List Task) (k : Control) → Contains (numbers (parts_left shapes tasks)) m
    → IsInside shapes v m k → IsInside shapes v m (frame.Confines ∷ treating v (ends cause) tasks k)
left_inside shapes v cause m [] k has inside = none_in m has
left_inside shapes v cause m (task ∷ tasks) k has inside = ((λ same. has), inside)

pub ended_operation_inside :
    (program : Program) (input : List ℤ) (events : List Event) (last : State) → Run program (first_state program input) events last
    → (v : Value) (cause : Cause) (of n : ℕ) (tasks : List Task) (k : Control) → last.control ≡ frame.Treats v (ends cause) (performs of n ∷ tasks) ∷ k
    → TreatsInside (shapes_of program.types.items) v tasks k → (m : ℕ) → LiesIn (shapes_of program.types.items) m (record { of = of; number = n })
    → IsInside (shapes_of program.types.items) v m (frame.Confines ∷ treating v (ends cause) tasks k)
ended_operation_inside program input events last run v cause of n tasks k is inside m lies =
    let types = program.types.items in
    let c = (next_fine program input events last run v (ends cause) (performs of n ∷ tasks) k is).1.1 in
    let has = counted m (parts_left (shapes_of types) tasks) (clearing_inside (shapes_of types) of n tasks c.clearing m lies) in
    left_inside (shapes_of types) v cause m tasks k has (inside m has)
