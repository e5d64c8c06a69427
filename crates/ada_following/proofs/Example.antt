-- Runs by their choices, and what storage shows of them.

use Rattle.std.proofs.Common.{◌≡◌, false, List, [], ◌∷◌, map, refl, ap, ◌∙◌, arith}
use Rattle.std.specs.Prelude.{ℕ, suc, ◌<◌, true, None, Some}
use Rattle.std.specs.List.{filter}
use Rattle.ada_program.specs.declared.program.Exception.TheVariants.{ConstraintError}
use Rattle.ada_program.specs.declared.program.Procedure.{Procedure}
use Rattle.ada_program.specs.declared.program.Program.{Program}
use Rattle.ada_program.specs.declared.program.Declaration.TheVariants as declaration
use Rattle.ada_program.specs.declared.program.Item.TheVariants as item
use Rattle.ada_program.specs.declared.program.RecordPath.{RecordPath}
use Rattle.ada_program.specs.declared.program.Stmt as stmt
use Rattle.ada_program.specs.declared.program.TypeDefinition.TheVariants as definition
use Rattle.ada_program.specs.declared.program.PartKind.TheVariants as part
use Rattle.ada_program.specs.declared.program.VariableKind.TheVariants as variable
use Rattle.ada_program.specs.Form.{stmt_form}
use Rattle.ada_program.specs.Controlled.{no_operations}
use Rattle.ada_meaning.specs.Event.{Born, Finalized, Back, Followed, Left, Line, Quiet}
use Rattle.ada_meaning.specs.Named.{next}
use Rattle.ada_meaning.specs.declared.event.Halt.TheVariants.{Finished, Unhandled}
use Rattle.ada_meaning.specs.Run.{Event, settled, takes, Halts, here, there}
use Rattle.ada_order.specs.Example.{InSomeRun, is_seen}
use Rattle.ada_order.proofs.Example.{vec, no_name, spot, path}
use Rattle.ada_order.proofs.Example as nested
use Rattle.ada_storage.specs.State as storage
use Rattle.ada_storage.specs.Example.{seen}
use Rattle.ada_following.specs.Reading.{event_seen}
use Rattle.ada_following.specs.Example.{nested_events, BlocksAreFollowed, controlled_events, AControlledObjectIsFollowed, assigned_events, AnAssignmentIsFollowed, undone_events, AnUndoneObjectIsFollowed}
use Rattle.ada_following.proofs.Runs.{runs_follow_storage}

-- Storage shows nothing where nothing is seen of a program.
seen_more : (e : storage.Event) (es fs : List storage.Event) → seen es ≡ seen fs → seen (e ∷ es) ≡ seen (e ∷ fs)
seen_more (storage.born v by) es fs is = ap (λ (gs : List storage.Event). storage.born v by ∷ gs) is
seen_more (storage.finalized v cause) es fs is = ap (λ (gs : List storage.Event). storage.finalized v cause ∷ gs) is
seen_more (storage.back o cause) es fs is = ap (λ (gs : List storage.Event). storage.back o cause ∷ gs) is
seen_more (storage.left m) es fs is = ap (λ (gs : List storage.Event). storage.left m ∷ gs) is
seen_more storage.quiet es fs is = is

seen_alone : (es : List Event) → seen (map event_seen es) ≡ seen (map event_seen (filter is_seen es))
seen_alone [] = refl
seen_alone (Born object part turn type number by ∷ es) = seen_more (event_seen (Born object part turn type number by)) _ _ (seen_alone es)
seen_alone (Finalized object part turn type number cause ∷ es) = seen_more (event_seen (Finalized object part turn type number cause)) _ _ (seen_alone es)
seen_alone (Back object access number pool subpool cause ∷ es) = seen_more (event_seen (Back object access number pool subpool cause)) _ _ (seen_alone es)
seen_alone (Followed object ∷ es) = seen_alone es
seen_alone (Left master ∷ es) = seen_more (event_seen (Left master)) (map event_seen es) (map event_seen (filter is_seen es)) (seen_alone es)
seen_alone (Line line ∷ es) = seen_alone es
seen_alone (Quiet ∷ es) = seen_alone es

pub blocks_are_followed : BlocksAreFollowed
blocks_are_followed =
    let run = nested.finishes in
    let shown : seen (map event_seen run.1) ≡ nested_events = seen_alone run.1 ∙ ap (λ (es : List Event). seen (map event_seen es)) run.4.1 in
    (nested.program, nested.form, (run.0, run.1, run.2, run.3, (run.4.0, shown, runs_follow_storage nested.program run.0 run.1 run.2 run.3)))

-- type T is new Limited_Controlled with null record; X : T; begin null; end
abbrev controlled : Program
controlled = record {
  types =
      vec
      (definition.Record no_name (vec (record { name = no_name; kind = part.Parent; first = record { 0 = 0 }; part = record { 0 = 0 } } ∷ []) (omega arith)) (vec [] (omega arith)) (Some (record { number = record { 0 = 0 }; parts = 1; limited = true; operations = no_operations }))
      ∷ definition.Object (record { 0 = 0 }) ∷ [])
      (omega arith);
  pools = vec [] (omega arith);
  procedures = vec [] (omega arith);
  variables = vec (record { name = no_name; spot = spot; kind = variable.Record (record { 0 = 1 }); borrows = false } ∷ []) (omega arith);
  texts = vec [] (omega arith);
  exceptions = vec [] (omega arith);
  declarations = vec (declaration.Record (record { 0 = 0 }) (record { 0 = 1 }) None ∷ []) (omega arith);
  statements = vec (stmt.Null ∷ []) (omega arith);
  handlers = vec [] (omega arith);
}

controlled_run : InSomeRun controlled (λ events last. Halts controlled last Finished × (seen (map event_seen events) ≡ controlled_events))
unfolding next stmt_form
controlled_run = (
  [],
  _,
  _,
  there settled _ (refl, refl) (there settled _ (refl, refl) (there settled _ (refl, refl) (there settled _ (refl, refl) (there settled _ (refl, refl) (there settled _ (refl, refl) (there settled _ (refl, refl)
      (there (takes 0) _ (omega arith, refl, refl) (there settled _ (refl, refl) (there settled _ (refl, refl) (there settled _ (refl, refl) (there settled _ (refl, refl) (there settled _ (refl, refl) here)))))))))))),
  (refl, refl),
)

pub a_controlled_object_is_followed : AControlledObjectIsFollowed
a_controlled_object_is_followed =
    let r = controlled_run in
    (controlled, (r.0, r.1, r.2, r.3, (r.4.0, r.4.1, runs_follow_storage controlled r.0 r.1 r.2 r.3)))

-- type T is new Controlled with null record; X, Y : T; begin X := Y; end
abbrev of_record : ℕ → RecordPath
of_record x = record { object = record { root = record { 0 = x }; of_record = true; selectors = vec [] (omega arith); spot = spot }; first = record { 0 = 0 }; part = record { 0 = 0 }; «record» = record { 0 = 0 } }

abbrev assigned : Program
assigned = record {
  types =
      vec
      (definition.Record no_name (vec (record { name = no_name; kind = part.Parent; first = record { 0 = 0 }; part = record { 0 = 0 } } ∷ []) (omega arith)) (vec [] (omega arith)) (Some (record { number = record { 0 = 0 }; parts = 1; limited = false; operations = no_operations }))
      ∷ definition.Object (record { 0 = 0 }) ∷ definition.Object (record { 0 = 0 }) ∷ [])
      (omega arith);
  pools = vec [] (omega arith);
  procedures = vec [] (omega arith);
  variables =
      vec
      (record { name = no_name; spot = spot; kind = variable.Record (record { 0 = 1 }); borrows = false }
      ∷ record { name = no_name; spot = spot; kind = variable.Record (record { 0 = 2 }); borrows = false } ∷ [])
      (omega arith);
  texts = vec [] (omega arith);
  exceptions = vec [] (omega arith);
  declarations = vec (declaration.Record (record { 0 = 0 }) (record { 0 = 1 }) None ∷ declaration.Record (record { 0 = 1 }) (record { 0 = 2 }) None ∷ []) (omega arith);
  statements = vec (stmt.AssignRecord (of_record 0) (vec (item.Record (of_record 1) ∷ []) (omega arith)) ∷ []) (omega arith);
  handlers = vec [] (omega arith);
}

some_more : (n : ℕ) → 0 < suc n
some_more n = omega arith

assigned_run : InSomeRun assigned (λ events last. Halts assigned last Finished × (seen (map event_seen events) ≡ assigned_events))
unfolding next stmt_form
assigned_run = (
  [],
  _,
  _,
  there settled _ (refl, refl) (there settled _ (refl, refl) (there settled _ (refl, refl) (there settled _ (refl, refl) (there settled _ (refl, refl) (there settled _ (refl, refl) (there settled _ (refl, refl) (there settled _ (refl, refl) (there settled _ (refl, refl) (there settled _ (refl, refl) (there settled _ (refl, refl) (there settled _ (refl, refl) (there settled _ (refl, refl) (there settled _ (refl, refl) (there settled _ (refl, refl) (there settled _ (refl, refl) (there settled _ (refl, refl) (there settled _ (refl, refl) (there (takes 0) _ (some_more 0, refl, refl) (there settled _ (refl, refl) (there settled _ (refl, refl) (there settled _ (refl, refl) (there settled _ (refl, refl) (there (takes 0) _ (some_more 0, refl, refl) (there settled _ (refl, refl) (there settled _ (refl, refl) (there settled _ (refl, refl) (there settled _ (refl, refl) (there settled _ (refl, refl) here)))))))))))))))))))))))))))),
  (refl, refl),
)

pub an_assignment_is_followed : AnAssignmentIsFollowed
an_assignment_is_followed =
    let r = assigned_run in
    (assigned, (r.0, r.1, r.2, r.3, (r.4.0, r.4.1, runs_follow_storage assigned r.0 r.1 r.2 r.3)))

-- type T is new Limited_Controlled with null record; type R is new Limited_Controlled with record C : T; end record; X : R; begin null; end
-- where Initialize of R raises an exception
abbrev raising : Procedure
raising = record {
  formals = vec [] (omega arith);
  variables = vec [] (omega arith);
  declarations = vec [] (omega arith);
  statements = vec (stmt.Raise ConstraintError ∷ []) (omega arith);
  handlers = vec [] (omega arith);
  start = spot;
  end = spot;
}

abbrev undone : Program
undone = record {
  types =
      vec
      (definition.Record no_name (vec (record { name = no_name; kind = part.Parent; first = record { 0 = 0 }; part = record { 0 = 0 } } ∷ []) (omega arith)) (vec [] (omega arith)) (Some (record { number = record { 0 = 0 }; parts = 1; limited = true; operations = no_operations }))
      ∷ definition.Record no_name
      (vec (record { name = no_name; kind = part.Parent; first = record { 0 = 0 }; part = record { 0 = 0 } } ∷ record { name = no_name; kind = part.Record (record { 0 = 0 }); first = record { 0 = 0 }; part = record { 0 = 1 } } ∷ []) (omega arith)) (vec [] (omega arith))
      (Some (record { number = record { 0 = 1 }; parts = 2; limited = true; operations = record { initialize = Some (record { 0 = 0 }); adjust = None; finalize = None } }))
      ∷ definition.Object (record { 0 = 1 }) ∷ [])
      (omega arith);
  pools = vec [] (omega arith);
  procedures = vec (raising ∷ []) (omega arith);
  variables = vec (record { name = no_name; spot = spot; kind = variable.Record (record { 0 = 2 }); borrows = false } ∷ []) (omega arith);
  texts = vec [] (omega arith);
  exceptions = vec [] (omega arith);
  declarations = vec (declaration.Record (record { 0 = 0 }) (record { 0 = 2 }) None ∷ []) (omega arith);
  statements = vec (stmt.Null ∷ []) (omega arith);
  handlers = vec [] (omega arith);
}

undone_run : InSomeRun undone (λ events last. Halts undone last (Unhandled ConstraintError) × (seen (map event_seen events) ≡ undone_events))
unfolding next stmt_form
undone_run = (
  [],
  _,
  _,
  there settled _ (refl, refl) (there (takes 0) _ (some_more 0, refl, refl) (there settled _ (refl, refl) (there settled _ (refl, refl) (there settled _ (refl, refl) (there settled _ (refl, refl) (there settled _ (refl, refl) (there settled _ (refl, refl) (there settled _ (refl, refl) (there settled _ (refl, refl) (there settled _ (refl, refl) (there settled _ (refl, refl) (there settled _ (refl, refl) (there settled _ (refl, refl) (there settled _ (refl, refl) (there settled _ (refl, refl) (there settled _ (refl, refl) (there settled _ (refl, refl) (there settled _ (refl, refl) (here))))))))))))))))))),
  (refl, refl),
)

pub an_undone_object_is_followed : AnUndoneObjectIsFollowed
an_undone_object_is_followed =
    let r = undone_run in
    (undone, (r.0, r.1, r.2, r.3, (r.4.0, r.4.1, runs_follow_storage undone r.0 r.1 r.2 r.3)))
