-- Steps that treat an object: an operation of one of its parts is called, or a component is picked.

use Rattle.std.proofs.Common.{◌≡◌, ℕ, ◌≤◌, Bool, true, false, ◌==◌, if◌then◌else◌, List, [], ◌∷◌, length, Option, Some, None, refl, sym, ap, ◌∙◌, inr, subst, arith}
use Rattle.std.specs.List.{slice_get}
use Rattle.ada_program.specs.declared.program.Operations.{Operations}
use Rattle.ada_program.specs.declared.program.TypeDefinition.{TypeDefinition}
use Rattle.ada_program.specs.Controlled.{no_operations, operations_of, procedure_number, shapes_of}
use Rattle.ada_program.specs.ProgramForm.{BodyForm}
use Rattle.ada_parts.specs.declared.tasks.Direction.TheVariants.{PartsFirst, WholeFirst}
use Rattle.ada_parts.specs.Part.{Part}
use Rattle.ada_parts.specs.Task.{Task, performs, treats, taken as taken_task, next as task_next}
use Rattle.ada_parts.specs.Law.{parts_left}
use Rattle.ada_meaning.specs.declared.state.Value.{Value}
use Rattle.ada_meaning.specs.declared.state.Stage.TheVariants.{Existing}
use Rattle.ada_meaning.specs.declared.state.Mode.TheVariants.{Running}
use Rattle.ada_meaning.specs.declared.event.Birth.{Birth}
use Rattle.ada_meaning.specs.declared.event.Birth.TheVariants.{Creation, Copy, Adjustment}
use Rattle.ada_meaning.specs.declared.event.Cause.{Cause}
use Rattle.ada_meaning.specs.declared.event.Halt.TheVariants.{Erroneous, Stuck}
use Rattle.ada_meaning.specs.declared.event.Why.TheVariants.{FinalizesTwice}
use Rattle.ada_meaning.specs.Event.{Finalized, Quiet}
use Rattle.ada_meaning.specs.Frame.{Frame, begins, ends}
use Rattle.ada_meaning.specs.Frame as frame
use Rattle.ada_meaning.specs.State.{counted}
use Rattle.ada_meaning.specs.Heap.{PartState, Cell, Found, on_null, on_gone, on_other, finds}
use Rattle.ada_meaning.specs.Step.{halts, picks, at, member_at, picked_task, treating, treated_on, beginning as operation_of, operation_next, part_reference, born_next, begun_next, awaited_next, ended_next, finalized_next, performed_next, treats_next}
use Rattle.ada_meaning.specs.Named.{Object, State, Next, named, look, finalize}
use Rattle.ada_meaning.specs.Run.{Event}
use Rattle.ada_meaning.proofs.Treatments.{member_within, are_table}
use Rattle.ada_finalized.specs.Law.{finalized_before}
use Rattle.ada_finalized.proofs.Counts.{count}
use Rattle.ada_finalized.proofs.Treated.{get_within, picked, picked_left, clearing_left, clearing_picked}
use Rattle.ada_finalized.proofs.Ranks.{Heap}
use Rattle.ada_finalized.proofs.Doings.{name, Treating, doings, fewer_treating, alike, on_same, fewer_gains, fewer_losses}
use Rattle.ada_finalized.proofs.Stacks.{Control, Overrides, IsPart, IsSpare, code, finalization, Stack, calm, operates, awaits, confines, covered}
use Rattle.ada_finalized.proofs.Invariant.{Sane, Inv, runs, ending}
use Rattle.ada_finalized.proofs.Going.{kept_goes, begins_stand, looked, one_here}
use Rattle.ada_finalized.proofs.Begun.{begins_of, born_goes}
use Rattle.ada_finalized.proofs.Ended.{clears_of, ended_goes}
use Rattle.ada_finalized.proofs.Passing.{parts_of_sane, waits_goes}
use Rattle.ada_finalized.proofs.Coding.{Leads}

-- Where a type overrides nothing, no operation is called.
begins_by_none : (by : Birth) → operation_of by no_operations ≡ None
begins_by_none Creation = refl
begins_by_none Copy = refl
begins_by_none (Adjustment n) = refl

pub begins_some : (types : List TypeDefinition) (by : Birth) (of procedure : ℕ) → operation_of by (operations_of types of) ≡ Some procedure → Overrides types
begins_some types by of procedure is none =
    let never : None ≡ Some procedure = sym (begins_by_none by) ∙ ap (operation_of by) (sym (none of)) ∙ is in
    absurd (cc never)

pub ends_some : (types : List TypeDefinition) (of procedure : ℕ) → procedure_number (operations_of types of).finalize ≡ Some procedure → Overrides types
ends_some types of procedure is none =
    let never : None ≡ Some procedure = ap (λ (ops : Operations). procedure_number ops.finalize) (sym (none of)) ∙ is in
    absurd (cc never)

picks_lead : (types : List TypeDefinition) (past : List Event) (s : State) (none : Bool) (n : Next) → Leads types past s n → Leads types past s (if none then halts Stuck else n)
picks_lead types past s true n h = tt
picks_lead types past s false n h = h

-- What is found is a part.
part_of :
    (types : List TypeDefinition) (xs : Heap) (o n : ℕ) (x : Object) (p : PartState) → slice_get xs o ≡ Some x → x.stage ≡ Existing → slice_get x.cell.parts n ≡ Some p
    → Sane types x → IsPart types xs o n
part_of types xs o n x p at_o stage at_n sane =
    let lt = get_within x.cell.parts n p at_n in
    let le = parts_of_sane types x stage sane in
    (x, (at_o, omega (arith, lt, le)))

-- A part is to begin.
module _ (types : List TypeDefinition) (bodies : List BodyForm) (past : List Event) (s : State) (o of n : ℕ) (by : Birth) (done : List Part) (tasks : List Task) (k : Control) (running : s.mode ≡ Running) (is : doings s.control ≡ Treating (name o) (begins by done) (performs of n ∷ tasks) ∷ doings k) (h : Stack types s.heap code s.activations k) (inv : Inv types past s.heap s.next (doings s.control)) where
  born_leads :
      (x : Object) → slice_get s.heap o ≡ Some x → x.stage ≡ Existing → (found : Option PartState) → slice_get x.cell.parts n ≡ found
      → Leads types past s (born_next named (name o) by done of n tasks found (at k s))
  born_leads x at_o stage None at_n = tt
  born_leads x at_o stage (Some p) at_n =
      born_goes types past s o x at_o stage of n (counted s.born) by done tasks k is (covered types s.heap code s.activations k h) inv p at_n _ refl refl running refl h

  pub awaited_leads : (found : Found (Cell Value)) → look s.heap (name o) ≡ found → Leads types past s (awaited_next named (name o) by done of n tasks found (at k s))
  awaited_leads on_null found = tt
  awaited_leads on_gone found = tt
  awaited_leads on_other found = tt
  awaited_leads (finds cell) found =
      let t = looked types s.heap inv.sane o cell found in
      born_leads t.object t.at_place t.stage (slice_get cell.parts n) (ap (λ (c : Cell Value). slice_get c.parts n) (sym t.same))

  operating_leads : (procedure : ℕ) (found : Option BodyForm) (reference : Value) → Overrides types → IsPart types s.heap o n → Leads types past s (operation_next named procedure found reference (frame.Awaits (name o) by done of n tasks ∷ k) Quiet (at k s))
  operating_leads procedure None reference some part = tt
  operating_leads procedure (Some b) reference some part =
      kept_goes types past s Quiet _ inv tt refl (sym is) (runs (calm _ _ tt (operates _ (awaits (name o) by done of n tasks k some (o, (refl, part)) h))))

  begun_leads :
      (x : Object) → slice_get s.heap o ≡ Some x → x.stage ≡ Existing → (operation : Option ℕ) → operation_of by (operations_of types of) ≡ operation
      → (found : Option PartState) → slice_get x.cell.parts n ≡ found → Leads types past s (begun_next named bodies (name o) by done of n tasks operation found (at k s))
  begun_leads x at_o stage operation called None at_n = tt
  begun_leads x at_o stage None called (Some p) at_n = born_leads x at_o stage (Some p) at_n
  begun_leads x at_o stage (Some procedure) called (Some p) at_n =
      operating_leads procedure (slice_get bodies procedure) (part_reference named (name o) n p) (begins_some types by of procedure called) (part_of types s.heap o n x p at_o stage at_n (inv.sane o x at_o))

  pub begins_lead : (found : Found (Cell Value)) → look s.heap (name o) ≡ found → Leads types past s (performed_next named types bodies (name o) (begins by done) of n tasks found (at k s))
  begins_lead on_null found = tt
  begins_lead on_gone found = tt
  begins_lead on_other found = tt
  begins_lead (finds cell) found =
      let t = looked types s.heap inv.sane o cell found in
      begun_leads t.object t.at_place t.stage (operation_of by (operations_of types of)) refl (slice_get cell.parts n) (ap (λ (c : Cell Value). slice_get c.parts n) (sym t.same))

-- What is left of an initialization or an adjustment.
pub beginning_leads :
    (types : List TypeDefinition) (bodies : List BodyForm) (past : List Event) (s : State) (o : ℕ) (by : Birth) (done : List Part) (task : Task) (tasks : List Task)
    (k : Control) → s.mode ≡ Running → s.control ≡ frame.Treats (name o) (begins by done) (task ∷ tasks) ∷ k → Stack types s.heap code s.activations k
    → Inv types past s.heap s.next (doings s.control)
    → Leads types past s (treats_next named types bodies (name o) (begins by done) (task ∷ tasks) (task_next (task ∷ tasks)) (at k s))
beginning_leads types bodies past s o by done (performs of n) tasks k running is h inv =
    begins_lead types bodies past s o of n by done tasks k running (ap doings is) h inv (look s.heap (name o)) refl
beginning_leads types bodies past s o by done (treats cs) tasks k running is h inv =
    let shapes = shapes_of types in
    let all_left = treats cs ∷ tasks in
    let inv_before = subst (Inv types past s.heap s.next) (ap doings is) inv in
    let b = begins_of types past s.heap s.next o by done all_left inv_before.fine.0 in
    picks_lead types past s (length cs == 0) (picks (length cs) (λ i. treated_on named (name o) (begins by done) (picked_task shapes PartsFirst all_left i) (at k s)))
    (λ i lt.
    let left = taken_task shapes PartsFirst all_left i in
    waits_goes types past s _ (name o) (begins by done) all_left left (doings k) (ap doings is) inv
    (picked_left shapes PartsFirst b.all done all_left i (are_table types) lt b.treated) (
      o,
      (
        refl,
        record {
          all = b.all;
          treated = picked shapes PartsFirst b.all done all_left i (are_table types) lt b.treated;
          recorded = λ p has. inr (b.recorded p has);
          numbered = b.numbered;
          there = b.there;
          whole = b.whole;
          undoes = b.undoes;
        },
      ),
    )
    refl refl (fewer_treating (name o) (begins by done) left (doings k) k alike) (begins_stand types s.heap _ o by done left k running refl h))

-- A value of a part is to be finalized; what is left behind stands as this says.
module _ (types : List TypeDefinition) (bodies : List BodyForm) (past : List Event) (s : State) (o : ℕ) (cause : Cause) (b : Control) (running : s.mode ≡ Running) (inv : Inv types past s.heap s.next (doings s.control)) (named_so : finalized_before b ≡ name o) where
  -- What is left of it stands, where no more is left of any part.
  abbrev pub Rebuilds : List Task → Type 0
  Rebuilds tasks =
      (left : List Task) → ((n : ℕ) → count n (parts_left (shapes_of types) left) ≤ count n (parts_left (shapes_of types) tasks))
      → Stack types s.heap finalization s.activations (treating (name o) (ends cause) left b)

  module _ (of n : ℕ) (tasks : List Task) (is : s.control ≡ frame.Treats (name o) (ends cause) (performs of n ∷ tasks) ∷ b) (rebuilds : Rebuilds (performs of n ∷ tasks)) where
    stands_on : Stack types s.heap finalization s.activations (treating (name o) (ends cause) tasks b)
    stands_on = rebuilds tasks (λ m. omega arith)

    before_left : (left : List Task) → finalized_before (treating (name o) (ends cause) left b) ≡ name o
    before_left [] = named_so
    before_left (task ∷ left) = refl

    is_spare : IsSpare types o n (doings (treating (name o) (ends cause) tasks b))
    is_spare =
        let shapes = shapes_of types in
        let before = performs of n ∷ tasks in
        let few = fewer_treating (name o) (ends cause) tasks (doings b) b alike in
        let ds = Treating (name o) (ends cause) tasks ∷ doings b in
        let le = covered types s.heap finalization s.activations (treating (name o) (ends cause) before b) (rebuilds before (λ m. omega arith)) o n in
        let one = one_here (record { of = of; number = n }) (parts_left shapes tasks) in
        let x = on_same o (count n (parts_left shapes before)) in
        let y = on_same o (count n (parts_left shapes tasks)) in
        let g = fewer_gains shapes o n ds (doings (treating (name o) (ends cause) tasks b)) few in
        let l = fewer_losses shapes o n ds (doings (treating (name o) (ends cause) tasks b)) few in
        omega (arith, le, one, x, y, g, l)

    module _ (x : Object) (at_o : slice_get s.heap o ≡ Some x) (stage : x.stage ≡ Existing) (p : PartState) (at_n : slice_get x.cell.parts n ≡ Some p) (alive : p.alive ≡ true) where
      abbrev shown : Event
      shown = Finalized (name o) n p.turn of p.number cause

      -- the state in which the value is gone
      abbrev without : State
      without = record (at b s) { heap = finalize s.heap (name o) n }

      ends_by : (procedure : ℕ) (found : Option BodyForm) (reference : Value) → Overrides types → Leads types past s (operation_next named procedure found reference (frame.Confines ∷ treating (name o) (ends cause) tasks b) shown without)
      ends_by procedure None reference some = tt
      ends_by procedure (Some body) reference some =
          ended_goes types past s o x at_o stage of n cause tasks (doings b) (ap doings is) inv p at_n alive _ refl (fewer_treating (name o) (ends cause) tasks (doings b) b alike)
          (runs (calm _ _ tt (operates _ (confines _ some (o, (n, (before_left tasks, (part_of types s.heap o n x p at_o stage at_n (inv.sane o x at_o), is_spare)))) stands_on))))

      pub ended_leads :
          (operation : Option ℕ) → procedure_number (operations_of types of).finalize ≡ operation
          → Leads types past s (ended_next named bodies (name o) n p (treating (name o) (ends cause) tasks b) operation shown without)
      ended_leads None called =
          ended_goes types past s o x at_o stage of n cause tasks (doings b) (ap doings is) inv p at_n alive _ refl (fewer_treating (name o) (ends cause) tasks (doings b) b alike) (ending running stands_on)
      ended_leads (Some procedure) called = ends_by procedure (slice_get bodies procedure) (part_reference named (name o) n p) (ends_some types of procedure called)

    finalized_by :
        (x : Object) → slice_get s.heap o ≡ Some x → x.stage ≡ Existing → (p : PartState) → slice_get x.cell.parts n ≡ Some p → (alive : Bool) → p.alive ≡ alive
        → Leads types past s (if alive then ended_next named bodies (name o) n p (treating (name o) (ends cause) tasks b) (procedure_number (operations_of types of).finalize) (Finalized (name o) n p.turn of p.number cause) (record (at b s) { heap = finalize s.heap (name o) n }) else halts (Erroneous FinalizesTwice))
    finalized_by x at_o stage p at_n true alive = ended_leads x at_o stage p at_n alive (procedure_number (operations_of types of).finalize) refl
    finalized_by x at_o stage p at_n false alive = tt

    finalized_leads :
        (x : Object) → slice_get s.heap o ≡ Some x → x.stage ≡ Existing → (found : Option PartState) → slice_get x.cell.parts n ≡ found
        → Leads types past s (finalized_next named bodies (name o) cause of n tasks (procedure_number (operations_of types of).finalize) found (at b s))
    finalized_leads x at_o stage None at_n = tt
    finalized_leads x at_o stage (Some p) at_n = finalized_by x at_o stage p at_n p.alive refl

    pub ends_lead : (found : Found (Cell Value)) → look s.heap (name o) ≡ found → Leads types past s (performed_next named types bodies (name o) (ends cause) of n tasks found (at b s))
    ends_lead on_null found = tt
    ends_lead on_gone found = tt
    ends_lead on_other found = tt
    ends_lead (finds cell) found =
        let t = looked types s.heap inv.sane o cell found in
        finalized_leads t.object t.at_place t.stage (slice_get cell.parts n) (ap (λ (c : Cell Value). slice_get c.parts n) (sym t.same))

  -- What is left of a finalization.
  pub clearing_leads :
      (task : Task) (tasks : List Task) → s.control ≡ frame.Treats (name o) (ends cause) (task ∷ tasks) ∷ b → Rebuilds (task ∷ tasks)
      → Leads types past s (treats_next named types bodies (name o) (ends cause) (task ∷ tasks) (task_next (task ∷ tasks)) (at b s))
  clearing_leads (performs of n) tasks is rebuilds = ends_lead of n tasks is rebuilds (look s.heap (name o)) refl
  clearing_leads (treats cs) tasks is rebuilds =
      let shapes = shapes_of types in
      let all_left = treats cs ∷ tasks in
      let inv_before = subst (Inv types past s.heap s.next) (ap doings is) inv in
      let c = clears_of types past s.heap s.next o cause all_left inv_before.fine.0 in
      picks_lead types past s (length cs == 0) (picks (length cs) (λ i. treated_on named (name o) (ends cause) (picked_task shapes WholeFirst all_left i) (at b s)))
      (λ i lt.
      let j = member_at WholeFirst (length cs) i in
      let within = member_within WholeFirst (length cs) i lt in
      let left = taken_task shapes WholeFirst all_left j in
      let same = clearing_left shapes all_left j (are_table types) within c.clearing in
      waits_goes types past s _ (name o) (ends cause) all_left left (doings b) (ap doings is) inv same
      (o, (refl, record { clearing = clearing_picked shapes all_left j (are_table types) within c.clearing; caused = c.caused }))
      refl refl (fewer_treating (name o) (ends cause) left (doings b) b alike)
      (ending running (rebuilds left (λ n. let e = same n in omega (arith, e)))))
