-- What the operation of a controlled part is called with (7.6): the part is a record of its type, which lies in the object where the part begins.

use Rattle.ada_typed.specs.Holding.{HasKind, PartsLie, cells_of, seen_now}
use Rattle.std.proofs.Common.{◌≡◌, ℕ, true, false, List, ◌∷◌, Some, refl, sym, ap, ◌∙◌, subst}
use Rattle.std.specs.List.{slice_get}
use Rattle.std.specs.Option.{option_map}
use Rattle.std.proofs.lemmas.Option.{slice_get-map}
use Rattle.ada_parts.specs.Task.{Task, performs}
use Rattle.ada_program.specs.declared.program.Program.{Program}
use Rattle.ada_program.specs.declared.program.VariableKind.TheVariants as variable
use Rattle.ada_program.specs.Controlled.{number_of}
use Rattle.ada_program.specs.ProgramForm.{TypeForm, ProgramForm, program_form}
use Rattle.ada_program.specs.WellFormed.{IsWellFormed, object_named, reached_components, record_components, has_record_at}
use Rattle.ada_program.proofs.Shapes.{same_number}
use Rattle.ada_meaning.specs.declared.state.Id.{Id}
use Rattle.ada_meaning.specs.declared.state.Value.{Value}
use Rattle.ada_meaning.specs.declared.state.Value.TheVariants.{Null, Names, Scalar, Part}
use Rattle.ada_meaning.specs.declared.state.Mode.{Mode}
use Rattle.ada_meaning.specs.declared.state.Mode.TheVariants.{Running, Raising}
use Rattle.ada_meaning.specs.Frame.{Frame, Treatment}
use Rattle.ada_meaning.specs.Frame as frame
use Rattle.ada_meaning.specs.Heap.{PartState}
use Rattle.ada_meaning.specs.Named.{Object, State, named, object_at}
use Rattle.ada_meaning.specs.Step.{procedure_of, part_reference}
use Rattle.ada_typed.proofs.Parts.{firsts_known}
use Rattle.ada_typed.proofs.Lying.{IsOperable}
use Rattle.ada_typed.proofs.Values.{OperandKind, HasParts, parts_at}
use Rattle.ada_typed.proofs.Control.{IsTreated, Fits, Ready, Goes, Typed, TypedIn, running, on_jump, operated, out_of_operation}
use Rattle.ada_typed.proofs.Evaluations.{cell_at, own_access}
use Rattle.ada_typed.proofs.Treatments.{part_there, part_within}
use Rattle.ada_typed.proofs.Inner.{parts_are_records}
use Rattle.ada_typed.proofs.Bodies.{types_seen}
use Rattle.ada_typed.proofs.Overridings.{OperationFor}
use Rattle.ada_typed.proofs.Calls.{same_filled, part_kind}
use Rattle.ada_typed.proofs.Freeing.{starts, starts_so}

-- The next action of a typed state is one of a treatment: what is treated so is known.
record Treating (own : ProgramForm) (s : State) (v : Value) (treatment : Treatment) (tasks : List Task) : Type 0 where
  kinds : List OperandKind
  ready : Ready own kinds s
  treated : IsTreated own.types (cells_of s.heap) v treatment tasks

treats_now :
    (own : ProgramForm) (s : State) (v : Value) (treatment : Treatment) (tasks : List Task) (k : List (Frame Value)) → TypedIn own s → s.mode ≡ Running
    → s.control ≡ frame.Treats v treatment tasks ∷ k → Treating own s v treatment tasks
treats_now own s v treatment tasks k (running kinds ready fits) runs is =
    let treats = subst (λ (control : List (Frame Value)). Fits own (cells_of s.heap) kinds control) is fits in
    record { kinds = kinds; ready = ready; treated = treats.0 }
treats_now own s v treatment tasks k (on_jump mode jumps goes) runs is =
    let never : Goes own (cells_of s.heap) Running s.control = subst (λ (now : Mode). Goes own (cells_of s.heap) now s.control) (sym jumps.jumps ∙ runs) goes in
    absurd never
treats_now own s v treatment tasks k (operated kinds ready ended) runs is =
    let ends : starts s.control ≡ true = starts_so own (cells_of s.heap) kinds s.control ended in
    let begins : starts s.control ≡ false = ap starts is in
    absurd (cc)
treats_now own s v treatment tasks k (out_of_operation e kinds jumps ended) runs is =
    let never : Raising e ≡ Running = sym jumps.jumps ∙ runs in
    absurd (cc)

is_name : (types : List TypeForm) (s : State) (v : Value) (treatment : Treatment) (tasks : List Task) → IsTreated types (cells_of s.heap) v treatment tasks → (o : Id) × (v ≡ Names o)
is_name types s Null treatment tasks treated = absurd treated
is_name types s (Names o) treatment tasks treated = (o, refl)
is_name types s (Scalar held) treatment tasks treated = absurd treated
is_name types s (Part o place) treatment tasks treated = absurd treated

-- What is treated is named as a whole.
pub treats_name :
    (p : ProgramForm) (s : State) (v : Value) (treatment : Treatment) (tasks : List Task) (k : List (Frame Value)) → Typed p s → s.mode ≡ Running
    → s.control ≡ frame.Treats v treatment tasks ∷ k → (o : Id) × (v ≡ Names o)
treats_name p s v treatment tasks k typed runs is =
    let own = seen_now p s in
    is_name own.types s v treatment tasks (treats_now own s v treatment tasks k typed.inside runs is).treated

-- A controlled part of an object, whose type has this number among those with controlled parts: the object has it, and where it begins there lies a record of
-- that type, with its components and its controlled parts. So what refers to it is what the formal parameter of an operation of the type may hold (6.2).
pub record IsPartOf (program : Program) (s : State) (o : Id) (object : Object) (of part : ℕ) : Type 0 where
  pub state : PartState
  pub at : slice_get object.cell.parts part ≡ Some state
  pub lies :
      (t : ℕ) → number_of program.types.items (Some t) ≡ Some of
      → has_record_at (reached_components (program_form program).types object.cell.access) state.first (record_components (program_form program).types t) ≡ true
  pub counted :
      (t : ℕ) → number_of program.types.items (Some t) ≡ Some of
      → PartsLie (program_form program).types (object_named (program_form program).types (Some object.cell.access)) (Some t) state.first part
  pub holds :
      (procedure : ℕ) (operation : OperationFor (program_form program) of procedure)
      → HasKind (program_form program).types (cells_of s.heap) (variable.Record operation.object) (part_reference named (Names o) part state)

module _ (program : Program) (well : IsWellFormed (program_form program)) where
  abbrev p : ProgramForm
  p = program_form program

  -- Of each typed state: the part whose operation is to be performed next is one.
  pub performed_part :
      (s : State) (o : Id) (object : Object) (treatment : Treatment) (of part : ℕ) (tasks : List Task) (k : List (Frame Value)) → Typed p s → s.mode ≡ Running
      → s.control ≡ frame.Treats (Names o) treatment (performs of part ∷ tasks) ∷ k → object_at s.heap o ≡ Some object → IsPartOf program s o object of part
  performed_part s o object treatment of part tasks k typed runs is there =
      let own = seen_now p s in
      let cells = cells_of s.heap in
      let treating = treats_now own s (Names o) treatment (performs of part ∷ tasks) k typed.inside runs is in
      let treated = treating.treated in
      let found = part_there object.cell.parts part (part_within own o treatment part tasks of s treating.kinds treating.ready treated object there) in
      let access = own_access s.heap o treated.0 object treated.1 there in
      let cell_there = cell_at s.heap o.0 object there in
      let parts : HasParts p.types object.cell = parts_at p.types cells cells o.0 object.cell (same_filled p (procedure_of s.activations) cells treating.ready.filled) cell_there in
      let operable : IsOperable p.types treated.0 of part =
      subst (λ (forms : List TypeForm). IsOperable forms treated.0 of part) (types_seen p (procedure_of s.activations)) treated.2.1.0 in
      let begins : slice_get (firsts_known p.types object.cell.access) part ≡ Some found.0.first =
      ap (λ (cs : List ℕ). slice_get cs part) (sym parts.1) ∙ slice_get-map (λ (r : PartState). r.first) object.cell.parts part
      ∙ ap (option_map (λ (r : PartState). r.first)) found.1 in
      let record_at = λ (t : ℕ) (numbered : number_of program.types.items (Some t) ≡ Some of).
      parts_are_records program well object.cell.access of part found.0.first t (subst (λ (a : ℕ). IsOperable p.types a of part) (sym access) operable) begins
      (sym (same_number program.types.items t) ∙ numbered) in
      record {
        state = found.0;
        at = found.1;
        lies = λ t numbered. (record_at t numbered).0;
        counted = λ t numbered. (record_at t numbered).1;
        holds = λ procedure operation.
            part_kind p (parts_are_records program well) cells o object.cell treated.0 of part procedure found.0 operation cell_there access parts found.1 operable;
      }
