-- The body of an operation comes to its end (7.6): what waits for it goes on; and an exception that comes out of an Initialize undoes the object (7.6.1), also
-- inside an operation that touches storage.

use Rattle.std.proofs.Common.{◌≡◌, ℕ, true, List, [], ◌∷◌, refl, inl, inr, subst, sym, ap, ◌∙◌, slice_get}
use Rattle.std.specs.Prelude.{Some}
use Rattle.std.specs.List.{slice_set}
use Rattle.ada_parts.specs.Task.{Task}
use Rattle.ada_program.specs.declared.program.Exception.{Exception}
use Rattle.ada_program.specs.declared.program.Program.{Program}
use Rattle.ada_program.specs.ProgramForm.{program_form, TypeForm}
use Rattle.ada_deeds.specs.Implicit.{implicit_of}
use Rattle.ada_meaning.specs.declared.event.Birth.TheVariants.{Creation, Copy, Adjustment}
use Rattle.ada_meaning.specs.declared.event.Cause.{Cause}
use Rattle.ada_meaning.specs.declared.event.Cause.TheVariants.{Leaving, Freeing, Assigning, Undoing}
use Rattle.ada_meaning.specs.declared.state.Id.{Id}
use Rattle.ada_meaning.specs.declared.state.Value.{Value}
use Rattle.ada_meaning.specs.declared.state.Value.TheVariants.{Names}
use Rattle.ada_meaning.specs.declared.state.Mode.TheVariants.{Running, Raising}
use Rattle.ada_meaning.specs.Event.{Quiet}
use Rattle.ada_meaning.specs.Frame.{Treatment, begins, ends, Confines, Ends}
use Rattle.ada_meaning.specs.State.{Activation, Master}
use Rattle.ada_meaning.specs.Step.{treating}
use Rattle.ada_meaning.specs.Named.{Object, State, object_at, filled}
use Rattle.ada_owners.proofs.Objects.{id_is}
use Rattle.ada_sound.proofs.Alters.{Alters, alters_same, alters_set}
use Rattle.ada_sound.proofs.Invariant.{Known, Control, EndsTo, IsLive, TreatsBy, ReadyIn}
use Rattle.ada_sound.proofs.Callers.{known_in}
use Rattle.ada_sound.proofs.FrugalControl.{IsInside}
use Rattle.ada_sound.proofs.Objects.{set_other}
use Rattle.ada_sound.proofs.Ready.{stays}
use Rattle.ada_sound.proofs.Returns.{CrossesTo, same_types}
use Rattle.ada_sound.proofs.Waiting.{stands_kept}
use Rattle.ada_sound.proofs.Written.{treats_written}
use Rattle.ada_sound.proofs.OperationStarts.{found_by}
use Rattle.ada_sound.proofs.Operating.{StaysLive, WaitsFor, lets_out, behind_operation}
use Rattle.ada_sound.proofs.Operates.{AroundTreated, CopiesInto, Suspended}
use Rattle.ada_sound.proofs.Pauses.{BeginsBehind, EndsBehind, GoesOnBehind, OthersStay, raised_within, within_kept}
use Rattle.ada_sound.proofs.Touching.{Around, Within}

pub is_live : (heap : List Object) (o : Id) (x : Object) → object_at heap o ≡ Some x → StaysLive x.stage → IsLive heap (Names o)
is_live heap o x found live = (x.cell, rw found (found_by x x.stage live))

-- What is behind the body of an operation is ready.
pub ready_for : (known : Known) (o : Id) (of : ℕ) (treatment : Treatment) (tasks : List Task) (k behind : Control) (heap : List Object) (places operands : List Value) (ms : List Master) → IsLive heap (Names o) → WaitsFor known.program.types o of treatment tasks k behind → TreatsBy known (Names o) treatment tasks k heap places operands ms → ReadyIn known Running behind heap places operands ms
ready_for known o of (begins by done) tasks k behind heap places operands ms live (part, is) r = rw is (live, r)
ready_for known o of (ends cause) tasks k behind heap places operands ms live (is, inside) r = rw is (Names o, cause, tasks, k, refl, r, inside)

-- So it is where an exception comes out of the body: the object is a new one, which is undone then.
pub ready_raising : (known : Known) (o : Id) (of : ℕ) (treatment : Treatment) (access : ℕ) (tasks : List Task) (k behind : Control) (heap : List Object) (places operands : List Value) (ms : List Master) (e : Exception) (x : Object) → object_at heap o ≡ Some x → x.cell.access ≡ access → IsLive heap (Names o) → WaitsFor known.program.types o of treatment tasks k behind
    → lets_out known.implicit access treatment e ≡ true → TreatsBy known (Names o) treatment tasks k heap places operands ms → ReadyIn known (Raising e) behind heap places operands ms
ready_raising known o of (begins Creation done) access tasks k behind heap places operands ms e x found same live (part, is) out r =
    rw is (refl, live, r.1.0, (o, x, refl, found, rw same out), r.1.1 e (o, x, refl, found, rw same out))
ready_raising known o of (begins Copy done) access tasks k behind heap places operands ms e x found same live waits out r = absurd (cc out)
ready_raising known o of (begins (Adjustment number) done) access tasks k behind heap places operands ms e x found same live waits out r = absurd (cc out)
ready_raising known o of (ends cause) access tasks k behind heap places operands ms e x found same live waits out r = absurd (cc out)

-- What is left of the finalization of an object goes on behind the body of a Finalize, and then the object ends.
ending_goes :
    (known : Known) (o : Id) (cause : Cause) (tasks : List Task) (k behind : Control) (heap : List Object) (places : List Value) (ms : List Master)
    → behind ≡ Confines ∷ treating (Names o) (ends cause) tasks k → EndsTo known (Names o) k heap places ms → EndsBehind o behind
ending_goes known o cause tasks [] behind heap places ms is none = absurd none
ending_goes known o cause tasks (Ends w ∷ k) behind heap places ms is (same, ending) = record { cause = cause; tasks = tasks; rest = k; is = rw same at is }
ending_goes known o cause tasks (f ∷ k) behind heap places ms is none = absurd none

-- Where an object is freed, undone or left, it ends behind that; where a record of it is assigned to, what is copied is stored in it; and where it is allocated or
-- declared, also as a copy, or adjusted, what is left of it begins.
inside_goes :
    (known : Known) (types : List TypeForm) (o : Id) (of : ℕ) (treatment : Treatment) (tasks : List Task) (k behind : Control) (heap : List Object)
    (places operands : List Value) (ms : List Master) → IsInside treatment → CopiesInto treatment (Names o) k
    → WaitsFor types o of treatment tasks k behind → TreatsBy known (Names o) treatment tasks k heap places operands ms → GoesOnBehind o behind
inside_goes known types o of (begins Creation done) tasks k behind heap places operands ms inside into (part, is) treats =
    inr (inl (record { by = Creation; done = done; of = of; part = part; tasks = tasks; rest = k; is = is }))
inside_goes known types o of (begins Copy done) tasks k behind heap places operands ms inside into (part, is) treats =
    inr (inl (record { by = Copy; done = done; of = of; part = part; tasks = tasks; rest = k; is = is }))
inside_goes known types o of (begins (Adjustment number) done) tasks k behind heap places operands ms inside into (part, is) treats =
    inr (inl (record { by = Adjustment number; done = done; of = of; part = part; tasks = tasks; rest = k; is = is }))
inside_goes known types o of (ends (Leaving m item)) tasks k behind heap places operands ms inside into (is, copied) treats =
    inl (ending_goes known o (Leaving m item) tasks k behind heap places ms is treats)
inside_goes known types o of (ends (Freeing number)) tasks k behind heap places operands ms inside into (is, copied) treats =
    inl (ending_goes known o (Freeing number) tasks k behind heap places ms is treats)
inside_goes known types o of (ends (Assigning number)) tasks k behind heap places operands ms inside into (is, copied) treats =
    inr (inr (record {
      number = number;
      first = into.first;
      record_type = into.record_type;
      to = into.to;
      width = into.width;
      tasks = tasks;
      rest = into.rest;
      is = is ∙ ap (λ (j : Control). Confines ∷ treating (Names o) (ends (Assigning number)) tasks j) into.is;
    }))
inside_goes known types o of (ends (Undoing number)) tasks k behind heap places operands ms inside into (is, copied) treats =
    inl (ending_goes known o (Undoing number) tasks k behind heap places ms is treats)

module _ (program : Program) (o : Id) (treatment : Treatment) (caller : Activation Value) (rest : List (Activation Value)) (behind : Control) (lower : List Master) where
  -- The types are those that the caller sees.
  waits_as : (s : State) (w : Suspended program o treatment caller rest behind lower s) → WaitsFor (known_in program caller.procedure w.suspensions).program.types o w.of treatment w.tasks w.after behind
  waits_as s w = subst (λ (types : List TypeForm). WaitsFor types o w.of treatment w.tasks w.after behind) (sym (same_types caller.procedure (program_form program))) w.waits

  -- The body ends: what waits for it goes on.
  pub goes_behind : (s : State) (x : Object) → object_at s.heap o ≡ Some x → StaysLive x.stage → (w : Suspended program o treatment caller rest behind lower s) → CrossesTo program w.suspensions s.heap Quiet (behind_operation (caller ∷ rest) behind lower s)
  goes_behind s x found live w = record {
    stepped = stays (known_in program caller.procedure w.suspensions) Quiet (behind_operation (caller ∷ rest) behind lower s)
        (tt, ready_for (known_in program caller.procedure w.suspensions) o w.of treatment w.tasks w.after behind s.heap caller.places caller.operands lower (is_live s.heap o x found live) (waits_as s w) w.treats) tt;
    stands = w.stands;
  }

  -- An exception comes out of the body: the object is undone next.
  pub raises_behind : (s : State) (access : ℕ) (e : Exception) (x : Object) → object_at s.heap o ≡ Some x → x.cell.access ≡ access → StaysLive x.stage → lets_out (implicit_of (program_form program)) access treatment e ≡ true → (w : Suspended program o treatment caller rest behind lower s)
      → CrossesTo program w.suspensions s.heap Quiet (record (behind_operation (caller ∷ rest) behind lower s) { mode = Raising e })
  raises_behind s access e x found same live out w = record {
    stepped = stays (known_in program caller.procedure w.suspensions) Quiet (record (behind_operation (caller ∷ rest) behind lower s) { mode = Raising e })
        (tt, ready_raising (known_in program caller.procedure w.suspensions) o w.of treatment access w.tasks w.after behind s.heap caller.places caller.operands lower e x found same (is_live s.heap o x found live) (waits_as s w) out w.treats) tt;
    stands = stands_kept program (behind_operation (caller ∷ rest) behind lower s) (record (behind_operation (caller ∷ rest) behind lower s) { mode = Raising e }) w.suspensions w.stands Quiet
        (record { procedure = refl; suspended = refl }) (alters_same s.heap Quiet);
  }

  -- What is around the body is around what goes on behind it.
  pub around_behind :
      (s : State) (w : Suspended program o treatment caller rest behind lower s)
      → Around program w.suspensions (behind_operation (caller ∷ rest) behind lower s)
  around_behind s w = elim w.around [ inl none ↦ inl none | inr (inside, into, within) ↦ inr within ]

  -- So it is behind an exception: that comes out of the initialization of a part of a new object alone, which is undone then.
  pub around_raising :
      (s : State) (access : ℕ) (e : Exception) → lets_out (implicit_of (program_form program)) access treatment e ≡ true
      → (w : Suspended program o treatment caller rest behind lower s)
      → Around program w.suspensions (record (behind_operation (caller ∷ rest) behind lower s) { mode = Raising e })
  around_raising s access e out w = elim w.around [ inl none ↦ inl none | inr (inside, into, within) ↦ inr (by treatment w.waits out within) ]
    where
      by : (way : Treatment) → WaitsFor (program_form program).types o w.of way w.tasks w.after behind → lets_out (implicit_of (program_form program)) access way e ≡ true
          → Within program w.suspensions (behind_operation (caller ∷ rest) behind lower s)
          → Within program w.suspensions (record (behind_operation (caller ∷ rest) behind lower s) { mode = Raising e })
      by (begins Creation done) (part, is) out' within =
          let begun : BeginsBehind o behind = record { by = Creation; done = done; of = w.of; part = part; tasks = w.tasks; rest = w.after; is = is } in
          raised_within program w.suspensions (behind_operation (caller ∷ rest) behind lower s) e begun within
      by (begins Copy done) waits out' within = absurd (cc out')
      by (begins (Adjustment number) done) waits out' within = absurd (cc out')
      by (ends cause) waits out' within = absurd (cc out')

  -- What is around it stays so, whatever the body does to the object.
  module _ (s after : State) (alters : Alters s.heap Quiet after.heap) (others : OthersStay o s.heap after.heap)
      (w : Suspended program o treatment caller rest behind lower s) where
    abbrev behind_in : State → State
    behind_in t = behind_operation (caller ∷ rest) behind lower t

    ends_next : IsInside treatment → CopiesInto treatment (Names o) w.after → GoesOnBehind o behind
    ends_next inside into =
        inside_goes (known_in program caller.procedure w.suspensions) (program_form program).types o w.of treatment w.tasks w.after behind s.heap
        caller.places caller.operands lower inside into w.waits w.treats

    -- One that touches storage is around it then, if one was.
    around_still : AroundTreated program treatment o w.after w.suspensions (behind_in after)
    around_still = by w.around
      where
        by : AroundTreated program treatment o w.after w.suspensions (behind_in s) → AroundTreated program treatment o w.after w.suspensions (behind_in after)
        by (inl none) = inl none
        by (inr (inside, into, within)) =
            inr (inside, into, within_kept program (behind_in s) (behind_in after) o (ends_next inside into) others refl refl refl w.suspensions Quiet within refl alters)

    -- What waits for it waits still.
    waits_still :
        TreatsBy (known_in program caller.procedure w.suspensions) (Names o) treatment w.tasks w.after after.heap caller.places caller.operands lower
        → Suspended program o treatment caller rest behind lower after
    waits_still treats = record {
      suspensions = w.suspensions;
      after = w.after;
      of = w.of;
      tasks = w.tasks;
      waits = w.waits;
      treats = treats;
      stands = stands_kept program (behind_in s) (behind_in after) w.suspensions w.stands Quiet (record { procedure = refl; suspended = refl }) alters;
      around = around_still;
    }

  -- The body writes an Integer or a Boolean into the object: what waits for it waits still.
  pub waits_written :
      (s after : State) (x : Object) (c : ℕ) (v : Value) → object_at s.heap o ≡ Some x → ((p : Id) → v ≡ Names p → ⊥) → ((p : Id) → slice_get x.cell.values c ≡ Some (Names p) → ⊥)
      → after.heap ≡ slice_set s.heap o.0 (filled c v x) → Suspended program o treatment caller rest behind lower s
      → Suspended program o treatment caller rest behind lower after
  waits_written s after x c v found nameless was heap w =
      waits_still s after (rw heap (alters_set s.heap Quiet o x (filled c v x) found (refl, refl, refl) (λ h. h) (λ h. inl h)))
      (λ q other. rw heap (set_other s.heap o.0 q.0 (filled c v x) (λ same. other (id_is q o same)))) w
      (rw heap (treats_written c v nameless (known_in program caller.procedure w.suspensions) lower s.heap o x found was treatment w.tasks
      caller.places caller.operands w.after w.treats))

  -- It writes nothing.
  pub waits_on :
      (s after : State) → after.heap ≡ s.heap → Suspended program o treatment caller rest behind lower s
      → Suspended program o treatment caller rest behind lower after
  waits_on s after heap w = waits_still s after (rw heap (alters_same s.heap Quiet)) (λ q other. rw heap refl) w (rw heap w.treats)
