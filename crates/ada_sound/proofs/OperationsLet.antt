-- What comes out of the body of an operation may come out of what it is called for (7.6, 7.6.1): of an Initialize what the creation of an object may raise in
-- which such a part lies, and of an Adjust or a Finalize nothing.

use Rattle.std.proofs.Common.{◌≡◌, ℕ, true, refl}
use Rattle.std.proofs.lemmas.Bool.{or_left}
use Rattle.std.specs.List.{list_any, slice_get}
use Rattle.std.specs.Prelude.{Option, Some, None}
use Rattle.ada_deeds.proofs.Known.{raises_are_done}
use Rattle.ada_deeds.proofs.Starting.{created_out}
use Rattle.ada_deeds.proofs.Within.{counts_are_enough, is_one_of}
use Rattle.ada_deeds.specs.Does.{Does}
use Rattle.ada_deeds.specs.Forms.{overriding, parts_do}
use Rattle.ada_deeds.specs.Implicit.{implicit_of, record_at}
use Rattle.ada_deeds.specs.Laws.{DoesRaise, known_to_raise}
use Rattle.ada_deeds.specs.Within.{does_by}
use Rattle.ada_deeds.specs.declared.deed.Callee.TheVariants as callee
use Rattle.ada_deeds.specs.declared.deed.Deed.TheVariants.{Raises}
use Rattle.ada_deeds.specs.declared.deed.Operation.TheVariants.{Initialize, Adjust, Finalize}
use Rattle.ada_deeds.specs.declared.deed.Operation.{Operation}
use Rattle.ada_meaning.specs.Frame.{Treatment, begins, ends}
use Rattle.ada_meaning.specs.declared.event.Birth.TheVariants.{Creation, Copy, Adjustment}
use Rattle.ada_program.specs.Controlled.{procedure_number, operations_of}
use Rattle.ada_program.specs.Handling.{is_same}
use Rattle.ada_program.specs.ProgramForm.{BodyForm, ProgramForm, seen_in, program_form, body_forms}
use Rattle.ada_program.specs.WellFormed.{IsWellFormed}
use Rattle.ada_program.specs.declared.program.Exception.{Exception}
use Rattle.ada_program.specs.declared.program.Program.{Program}
use Rattle.ada_program.specs.declared.program.TypeNo.{TypeNo}
use Rattle.ada_quiet.specs.Idle.{copies_parts, makes_parts}
use Rattle.ada_sound.specs.Always.{LetsNothingOut}
use Rattle.ada_sound.proofs.Bodies.{seen_is, effect_at}
use Rattle.ada_sound.proofs.FrugalUseEnds.{done_lying}
use Rattle.ada_sound.proofs.Invariant.{body_among}
use Rattle.ada_sound.proofs.Operating.{IsCalled, lets_out}
use Rattle.ada_sound.proofs.QuietOperations.{MayTouch}
use Rattle.ada_typed.proofs.Lying.{IsOperable}

-- What a body may raise, calls of its procedure are known to raise: so it comes out of its procedure.
raised_done : (p : ProgramForm) → IsWellFormed p → (number : ℕ) (b : BodyForm) → slice_get p.bodies number ≡ Some b → (e : Exception) → body_among (implicit_of p) (seen_in (Some number) p) e ≡ true
    → DoesRaise p number e
raised_done p well number b there e among =
    let effect = effect_at p.types (implicit_of p) p.bodies number b there in
    let known : known_to_raise p number e ≡ true = rw effect (rw (seen_is p number b there) at among) in
    raises_are_done p well number e known

-- The body of a procedure that overrides an operation: what it raises comes out of the operation of an object in which a part of that type lies.
module _
    (program : Program) (well : IsWellFormed (program_form program)) (access of part number : ℕ) (b : BodyForm) (operable : IsOperable (program_form program).types access of part)
    (there : slice_get (body_forms program) number ≡ Some b) (e : Exception) (among : body_among (implicit_of (program_form program)) (seen_in (Some number) (program_form program)) e ≡ true)
  where
    abbrev p : ProgramForm
    p = program_form program

    comes_out : DoesRaise p number e
    comes_out = raised_done p well number b there e among

    -- What the body of an Initialize raises, the creation of an object may raise in which such a part lies.
    starts_let : procedure_number (operations_of program.types.items of).initialize ≡ Some number → list_any (is_same e) ((implicit_of p).start_raises access) ≡ true
    starts_let overrides = by (record_at p.types access) refl (done_lying program well (Raises e) Initialize access of part number operable overrides comes_out)
      where
        by : (o : Option ℕ) → record_at p.types access ≡ o → parts_do (does_by p (Raises e)) Initialize o ≡ true → list_any (is_same e) ((implicit_of p).start_raises access) ≡ true
        by None at h = absurd (cc h)
        by (Some r) at h =
            created_out p e access r at (or_left (parts_do (does_by p (Raises e)) Initialize (Some r)) (parts_do (does_by p (Raises e)) Finalize (Some r)) h)
            (is_one_of p (Raises e) (callee.Procedure (record { 0 = number })) comes_out)

    -- Out of an operation that propagates nothing comes nothing (7.6.1).
    lets_none : (operation : Operation) → ((t : TypeNo) → ¬ (Does p (Raises e) (callee.Parts operation t))) → procedure_number (overriding operation (operations_of program.types.items of)) ≡ Some number → ⊥
    lets_none operation none overrides = by (record_at p.types access) (done_lying program well (Raises e) operation access of part number operable overrides comes_out)
      where
        by : (o : Option ℕ) → parts_do (does_by p (Raises e)) operation o ≡ true → ⊥
        by None h = cc h
        by (Some r) h = none (record { 0 = r }) ((counts_are_enough p (Raises e) (callee.Parts operation (record { 0 = r }))).0 h)

    -- So it is with an Adjust, where the program copies a record with controlled parts.
    pub adjusts_let : LetsNothingOut p → copies_parts p ≡ true → procedure_number (operations_of program.types.items of).adjust ≡ Some number → ⊥
    adjusts_let none_out copies overrides = lets_none Adjust (none_out.adjusts copies e) overrides

    -- So it is with a Finalize, where it creates an object with controlled parts, or assigns a record with some.
    ends_let : LetsNothingOut p → makes_parts p ≡ true → procedure_number (operations_of program.types.items of).finalize ≡ Some number → ⊥
    ends_let none_out made overrides = lets_none Finalize (none_out.finalizes made e) overrides

-- What comes out of the body of an operation that may touch storage may come out of the treatment that calls it: of an Initialize what the creation of the
-- object may raise, and of an Adjust or a Finalize nothing (7.6, 7.6.1).
pub touches_let :
    (program : Program) → IsWellFormed (program_form program) → LetsNothingOut (program_form program) → makes_parts (program_form program) ≡ true → (access of part number : ℕ) (b : BodyForm) → IsOperable (program_form program).types access of part
    → (treatment : Treatment) → MayTouch (program_form program) number treatment → IsCalled (operations_of program.types.items of) treatment number → slice_get (body_forms program) number ≡ Some b
    → (e : Exception) → body_among (implicit_of (program_form program)) (seen_in (Some number) (program_form program)) e ≡ true → lets_out (implicit_of (program_form program)) access treatment e ≡ true
touches_let program well none_out made access of part number b operable (begins Creation done) may called there e among = starts_let program well access of part number b operable there e among called
touches_let program well none_out made access of part number b operable (begins Copy done) may called there e among =
    absurd (adjusts_let program well access of part number b operable there e among none_out may.1 called)
touches_let program well none_out made access of part number b operable (begins (Adjustment n) done) may called there e among =
    absurd (adjusts_let program well access of part number b operable there e among none_out may.1 called)
touches_let program well none_out made access of part number b operable (ends cause) may called there e among =
    absurd (ends_let program well access of part number b operable there e among none_out made called)
