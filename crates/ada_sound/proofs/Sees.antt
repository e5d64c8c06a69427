-- What a body of a program sees.

use Rattle.std.proofs.Common.{◌≡◌, ℕ, false, List, refl, sym, ap, ◌∙◌, subst}
use Rattle.std.specs.Prelude.{Option, Some, None}
use Rattle.ada_program.specs.Controlled.{number_in, number_of, number_reached, operations_of, procedure_number, shapes_of}
use Rattle.ada_program.specs.declared.program.Operations.{Operations}
use Rattle.ada_program.specs.declared.program.ProcedureNo.{ProcedureNo}
use Rattle.ada_meaning.proofs.Places.{numbers_are_alone, types_have_their_operations}
use Rattle.ada_sound.proofs.CopiedOwners.{SeesToOwners, CopiesWell}
use Rattle.ada_program.specs.Typed.{designated_of}
use Rattle.ada_typed.proofs.Shown.{same_named}
use Rattle.ada_program.proofs.Shapes.{same_number}
use Rattle.ada_typed.proofs.Parts.{shown_number, shown_shapes, shapes_shown}
use Rattle.std.proofs.lemmas.Bool.{eq-eqb}
use Rattle.ada_program.specs.declared.program.Program.{Program}
use Rattle.ada_program.specs.ProgramForm.{TypeForm, program_form, body_forms, seen_in}
use Rattle.ada_program.specs.Typed.{components_of, reached_of}
use Rattle.ada_program.specs.WellFormed.{finalization_in, finalization_of, is_inherited, object_named, IsWellFormed, record_components, reached_components}
use Rattle.ada_typed.proofs.Bodies.{seen_fits, sees}
use Rattle.ada_typed.proofs.Objects.{record_no_access}
use Rattle.ada_sound.specs.Untracked.{AdjustsNoOwners}
use Rattle.ada_sound.proofs.Callers.{Suspension, known_in, rest_of}
use Rattle.ada_sound.proofs.CallStatements.{MayCall}
use Rattle.ada_sound.proofs.Defaults.{reached_same, Reaches}
use Rattle.ada_sound.proofs.Gathered.{AllocatesApart, AllocatesBare, copies_nothing, allocates_none}
use Rattle.ada_sound.proofs.Invariant.{AreObjects, Control}
use Rattle.ada_sound.proofs.InsideRecords.{TasksInside, no_tasks, record_inside}
use Rattle.ada_sound.proofs.Returns.{same_types}
use Rattle.ada_sound.proofs.Scalars.{scalars_lost}
use Rattle.ada_meaning.specs.Step.{record_tasks}

-- The number of the record type of an object that is known by a type, among those with controlled parts.
reached_number : (program : Program) (t : ℕ) → number_reached program.types.items t ≡ shown_number (program_form program).types (object_named (program_form program).types (Some t))
reached_number program t = by (designated_of program.types.items t) (same_named program.types.items t)
  where
    by : (o : Option ℕ) → object_named (program_form program).types (Some t) ≡ o → number_of program.types.items o ≡ shown_number (program_form program).types (object_named (program_form program).types (Some t))
    by None is = rw is refl
    by (Some r) is = rw is (same_number program.types.items r)

-- The types that a body sees are those of the program.
pub reaches_in : (program : Program) (procedure : Option ℕ) (gs : List Suspension) → Reaches (known_in program procedure gs) program.types.items
reaches_in program procedure gs =
    let same = same_types procedure (program_form program) in
    let reached = reached_same program.types.items in (
      (λ access. subst (λ (types : List TypeForm). reached_of program.types.items access ≡ reached_components types access) (sym same) (reached.0 access)),
      (λ t. subst (λ (types : List TypeForm). components_of program.types.items t ≡ record_components types t) (sym same) (reached.1 t)),
      (λ t none direction first. no_tasks program t (rw same at none) direction first),
      (λ t direction first. subst (λ (types : List TypeForm). TasksInside types t (record_tasks program.types.items t direction first)) (sym same) (record_inside program t direction first)),
      (λ t. subst (λ (types : List TypeForm). number_of program.types.items (Some t) ≡ shown_number types (Some t)) (sym same) (same_number program.types.items t)),
      (λ t. subst (λ (types : List TypeForm). number_reached program.types.items t ≡ shown_number types (object_named types (Some t))) (sym same) (reached_number program t)),
      subst (λ (types : List TypeForm). shown_shapes types ≡ shapes_of program.types.items) (sym same) (shapes_shown program.types.items (program_form program).types refl),
    )

-- Record objects that it sees are of no access types.
pub objects_in : (program : Program) (procedure : Option ℕ) → IsWellFormed (program_form program) → AreObjects (seen_in procedure (program_form program)).types (seen_in procedure (program_form program)).variables
objects_in program procedure well x t is =
    let p = seen_in procedure (program_form program) in
    record_no_access p.types p.variables x t.0 (seen_fits (program_form program) well procedure).variables_fit (rw is (eq-eqb t.0 t.0 refl))

-- What a body sees is there, and in it flow calls Integers and Booleans lost.
pub may_call : (program : Program) (procedure : Option ℕ) (gs : List Suspension) → IsWellFormed (program_form program) → MayCall (known_in program procedure gs) (body_forms program)
may_call program procedure gs well = record {
  among = sees (program_form program) procedure;
  lost = λ place at reached. scalars_lost program procedure (rest_of gs) reached.0 place at (seen_fits (program_form program) well procedure) reached.1;
  records = objects_in program procedure well;
}

-- Where no Adjust is of a type that declares components of access types, all that a body copies owns nothing.
pub copies_in :
    (program : Program) (procedure : Option ℕ) (gs : List Suspension) → IsWellFormed (program_form program) → AdjustsNoOwners (program_form program).types
    → CopiesWell (known_in program procedure gs).program.types
copies_in program procedure gs well none =
    let p = program_form program in
    subst CopiesWell (sym (same_types procedure p)) (copies_nothing p.types well.types_fit well.components_lie none)

-- Nor do the records own anything that are items of an allocator that it evaluates next.
pub allocates_in : (program : Program) (procedure : Option ℕ) (gs : List Suspension) (k : Control) → IsWellFormed (program_form program) → AdjustsNoOwners (program_form program).types
    → AllocatesApart (known_in program procedure gs).touches k → AllocatesBare (known_in program procedure gs).program (known_in program procedure gs).touches k
allocates_in program procedure gs k well none apart =
    allocates_none (seen_in procedure (program_form program)) k (subst AdjustsNoOwners (sym (same_types procedure (program_form program))) none) (objects_in program procedure well) apart

-- The Adjust that sees to what a record owns is overridden under the number of its type.
pub adjust_overridden : (program : Program) (procedure : Option ℕ) → IsWellFormed (program_form program) → (r of : ℕ) → SeesToOwners (seen_in procedure (program_form program)).types r of → (number : ℕ) × (procedure_number (operations_of program.types.items of).adjust ≡ Some number)
adjust_overridden program procedure well r of seen = go (subst (λ (types : List TypeForm). SeesToOwners types r of) (same_types procedure (program_form program)) seen)
  where
    overrides : (o : Option ProcedureNo) → is_inherited o ≡ false → (number : ℕ) × (procedure_number o ≡ Some number)
    overrides None e = absurd (cc e)
    overrides (Some own) e = (own.0, refl)

    go : SeesToOwners (program_form program).types r of → (number : ℕ) × (procedure_number (operations_of program.types.items of).adjust ≡ Some number)
    go s =
        let f = s.finalization in
        let found : finalization_of (program_form program).types r ≡ Some f = ap finalization_in s.at in
        let known : number_of program.types.items (Some r) ≡ Some f.number.0 = same_number program.types.items r ∙ ap number_in found in
        let said : Some of ≡ Some f.number.0 = sym s.numbered ∙ ap number_in found in
        let same : of ≡ f.number.0 = cc said in
        let own = types_have_their_operations program r s.parts f (s.name, s.components, s.at) (λ u is. numbers_are_alone program u r f.number.0 well is known) in
        let o = overrides f.operations.adjust s.overridden in
        (o.0, rw same (ap (λ (operations : Operations). procedure_number operations.adjust) own ∙ o.1))
