-- An object is treated next (7.6, 7.6.1): what the step leads to, whatever else is under way.

use Rattle.std.proofs.Common.{◌≡◌, ℕ, Bool, true, false, List, [], ◌∷◌, refl, sym, subst, ◌⊎◌, inl, inr}
use Rattle.std.specs.Prelude.{not, ◌&&◌}
use Rattle.std.proofs.lemmas.Bool.{or_cases}
use Rattle.ada_effects.specs.Effects.{Implicit}
use Rattle.ada_idle.proofs.Idle.{ControlIsIdle, IsIdle}
use Rattle.ada_meaning.specs.declared.event.Halt.TheVariants.{Erroneous}
use Rattle.ada_meaning.specs.declared.event.Why.TheVariants.{FinalizesTwice}
use Rattle.ada_meaning.specs.declared.state.Id.{Id}
use Rattle.ada_meaning.specs.declared.state.Mode.TheVariants.{Running}
use Rattle.ada_meaning.specs.declared.state.Value.{Value}
use Rattle.ada_meaning.specs.declared.state.Value.TheVariants.{Names}
use Rattle.ada_meaning.specs.Event.{Born, Finalized, Back, Followed, Left, Line, Quiet}
use Rattle.ada_meaning.specs.Frame.{Treatment, Treats, Assigns}
use Rattle.ada_meaning.specs.Named.{Object, State, named}
use Rattle.ada_meaning.specs.Run.{Event}
use Rattle.ada_meaning.specs.State.{Activation}
use Rattle.ada_meaning.specs.Step.{halts, frame_next, picked_task, treats_next}
use Rattle.ada_parts.specs.declared.tasks.Next.TheVariants.{Perform}
use Rattle.ada_parts.specs.Task.{Task, performs, next as task_next}
use Rattle.ada_program.specs.Controlled.{shapes_of}
use Rattle.ada_program.specs.declared.program.Program.{Program}
use Rattle.ada_program.specs.ProgramForm.{ProgramForm, TypeForm, body_forms, program_form, seen_in}
use Rattle.ada_quiet.specs.Idle.{makes_parts}
use Rattle.ada_quiet.specs.InUse.{operations_are_idle, operations_are_in_use, operations_may_be_called, operations_stand_in_order}
use Rattle.ada_scopes.proofs.Treatments.{TreatsFirst}
use Rattle.ada_sound.proofs.AdjustsKept.{adjusts_picked}
use Rattle.ada_sound.proofs.Callers.{Suspension, known_in}
use Rattle.ada_sound.proofs.CopySteps.{next_overrides}
use Rattle.ada_sound.proofs.InsideRecords.{TasksInside, next_inside, picked_inside}
use Rattle.ada_sound.proofs.Invariant.{Control, IsOfAssigned, Known, ReadyBy, Says}
use Rattle.ada_sound.proofs.Operated.{OperatedAs, OperatedOn, operated_by}
use Rattle.ada_sound.proofs.Ready.{running}
use Rattle.ada_sound.proofs.Returns.{same_types}
use Rattle.ada_sound.proofs.Grounds.{Grounds}
use Rattle.ada_sound.proofs.Treatments.{TellsNothing, TreatedIn, inside_left, treats_fine}
use Rattle.ada_sound.specs.Callees.{IsCovered}
use Rattle.ada_typed.proofs.Parts.{shapes_shown, shown_shapes}
use Rattle.ada_typed.specs.Holding.{cells_of}

-- What tells of no storage says nothing of objects, and covers nothing.
pub told_says : (e : Event) (before : List Object) (after : State) → TellsNothing e → (implicit : Implicit) (p : ProgramForm) → Says implicit p e before after
told_says (Born v part turn type number by) before after told implicit p = tt
told_says (Finalized v part turn type number cause) before after told implicit p = tt
told_says (Back v access number pool subpool cause) before after told implicit p = absurd told
told_says (Followed v) before after told implicit p = absurd told
told_says (Left master) before after told implicit p = tt
told_says (Line line) before after told implicit p = tt
told_says Quiet before after told implicit p = tt

pub told_covered : (program : Program) (e : Event) → TellsNothing e → (number : ℕ) → IsCovered program number e
told_covered program (Born v part turn type number by) told n = tt
told_covered program (Finalized v part turn type number cause) told n = tt
told_covered program (Back v access number pool subpool cause) told n = absurd told
told_covered program (Followed v) told n = absurd told
told_covered program (Left master) told n = tt
told_covered program (Line line) told n = tt
told_covered program Quiet told n = tt

-- Where operations are idle, nothing is treated: so where something is, they are in use as operations that may be called.
pub treated_in_use :
    (program : Program) (s : State) → operations_are_in_use (program_form program) ≡ true → (makes_parts (program_form program) ≡ false → IsIdle (program_form program).types s)
    → (k : Control) → s.control ≡ k → TreatsFirst k → operations_may_be_called (program_form program) ≡ true
treated_in_use program s in_use idles [] is first = absurd first
treated_in_use program s in_use idles (Treats v treatment tasks ∷ k) is first = by (or_cases (operations_are_idle p) (operations_may_be_called p) in_use)
  where
    p : ProgramForm
    p = program_form program

    none : (made ordered : Bool) → (not made && ordered) ≡ true → made ≡ false
    none true ordered idle = absurd (cc idle)
    none false ordered idle = refl

    by : (operations_are_idle p ≡ true) ⊎ (operations_may_be_called p ≡ true) → operations_may_be_called p ≡ true
    by (inr called) = called
    by (inl idle) =
        let is_idle = idles (none (makes_parts p) (operations_stand_in_order p) idle) in
        absurd ((subst (λ (all : Control). ControlIsIdle p.types all) is is_idle.control).0)
treated_in_use program s in_use idles (f ∷ k) is first = absurd first

-- So it is where a record with controlled parts is assigned to (5.2).
pub assigned_in_use :
    (program : Program) (s : State) → operations_are_in_use (program_form program) ≡ true → (makes_parts (program_form program) ≡ false → IsIdle (program_form program).types s)
    → (t : ℕ) (k : Control) → s.control ≡ Assigns t ∷ k → operations_may_be_called (program_form program) ≡ true
assigned_in_use program s in_use idles t k is = by (or_cases (operations_are_idle p) (operations_may_be_called p) in_use)
  where
    p : ProgramForm
    p = program_form program

    none : (made ordered : Bool) → (not made && ordered) ≡ true → made ≡ false
    none true ordered idle = absurd (cc idle)
    none false ordered idle = refl

    by : (operations_are_idle p ≡ true) ⊎ (operations_may_be_called p ≡ true) → operations_may_be_called p ≡ true
    by (inr called) = called
    by (inl idle) =
        let is_idle = idles (none (makes_parts p) (operations_stand_in_order p) idle) in
        absurd ((subst (λ (all : Control). ControlIsIdle p.types all) is is_idle.control).0)

pub treats_in_use : (program : Program) (s : State) → Grounds program s → (k : Control) → s.control ≡ k → TreatsFirst k → operations_may_be_called (program_form program) ≡ true
treats_in_use program s grounds k is first = treated_in_use program s grounds.in_use grounds.idle k is first

module _ (program : Program) (a : Activation Value) (rest : List (Activation Value)) (k : Control) (s : State) (v : Value) (treatment : Treatment) (tasks : List Task) (grounds : Grounds program (record s { mode = Running; control = Treats v treatment tasks ∷ k; activations = a ∷ rest })) (gs : List Suspension) where
  abbrev whole : State
  whole = record s { mode = Running; control = Treats v treatment tasks ∷ k; activations = a ∷ rest }

  abbrev treater : Known
  treater = known_in program a.procedure gs

  -- A record that is controlled itself lies in objects of the type of the one that is treated.
  abbrev pub IsOperated : Treatment → Id → ℕ → Type 0
  IsOperated by o of = OperatedAs (program_form program).types v treatment (cells_of s.heap) k by o of

  operated : IsOfAssigned treater.program.types treatment tasks k → (of part : ℕ) → task_next tasks ≡ Perform of part → (o : Id) → v ≡ Names o → IsOperated treatment o of
  operated assigned of part next object named = (
    refl,
    subst (λ (types : List TypeForm). OperatedOn types (cells_of s.heap) object of) (same_types a.procedure (program_form program))
        (operated_by (seen_in a.procedure (program_form program)) whole v treatment tasks k refl refl grounds.typed.inside of part next object named),
    subst (λ (types : List TypeForm). IsOfAssigned types treatment (performs of 0 ∷ []) k) (same_types a.procedure (program_form program))
        (inside_left treater.program.types treatment tasks (performs of 0 ∷ []) k assigned (λ t inside. (next_inside treater.program.types t of part tasks inside next, tt))),
    named,
  )

  -- What comes next is known, where no value is finalized that does not exist.
  pub treated_next : (treats_next named program.types.items (body_forms program) v treatment tasks (task_next tasks) (running k a rest s) ≡ halts (Erroneous FinalizesTwice) → ⊥) → ReadyBy treater (Treats v treatment tasks) k s.heap a.places a.operands s.masters
      → TreatedIn treater a rest s program.types.items (body_forms program) k IsOperated v (frame_next named program.types.items (body_forms program) (Treats v treatment tasks) (running k a rest s))
  treated_next once ready =
      treats_fine treater a rest s program.types.items (body_forms program) k IsOperated v
      (subst (λ (types : List TypeForm). shown_shapes types ≡ shapes_of program.types.items) (sym (same_types a.procedure (program_form program))) (shapes_shown program.types.items (program_form program).types refl))
      (λ left i at to. adjusts_picked program grounds.well treater (same_types a.procedure (program_form program)) v left i k s.heap a.places s.masters at to)
      (λ of part left to owns. next_overrides program grounds.well a.procedure gs v k s.heap a.places s.masters of part left to owns)
      (λ t direction left i inside. subst (λ (types : List TypeForm). TasksInside types t (picked_task (shapes_of program.types.items) direction left i)) (sym (same_types a.procedure (program_form program)))
      (picked_inside program t direction left i (subst (λ (types : List TypeForm). TasksInside types t left) (same_types a.procedure (program_form program)) inside)))
      (task_next tasks) treatment tasks refl (operated ready.1) once ready.0 ready.1
