-- The end of an object of an access type frees no object of that type and follows no value of it (7.6.1, 13.11.2, 4.1), and its adjustment frees none; nor does an
-- assignment to a record in it (5.2), nor its initialization (7.6).

use Rattle.std.proofs.Common.{◌≡◌, ℕ, zero, suc, ◌+◌, Bool, true, false, not, ◌||◌, List, [], ◌∷◌, refl, arith, ◌⊎◌, inl, inr}
use Rattle.std.specs.Prelude.{Option, Some, None, is_some}
use Rattle.std.specs.List.{slice_get}
use Rattle.std.proofs.lemmas.Bool.{and_parts, not-true, or_cases}
use Rattle.ada_deeds.proofs.Freed.{deed}
use Rattle.ada_deeds.proofs.Within.{counts_are_enough}
use Rattle.ada_deeds.specs.declared.deed.Callee.TheVariants as callee
use Rattle.ada_deeds.specs.declared.deed.Deed.TheVariants.{Follows}
use Rattle.ada_deeds.specs.declared.deed.Operation.{Operation}
use Rattle.ada_deeds.specs.declared.deed.Operation.TheVariants.{Adjust, Finalize}
use Rattle.ada_deeds.specs.Forms.{parts_do}
use Rattle.ada_deeds.specs.Implicit.{implicit_of, record_at, record_in}
use Rattle.ada_deeds.specs.Within.{does_by}
use Rattle.ada_effects.specs.Effects.{Implicit, assignment_frees}
use Rattle.ada_program.specs.declared.program.Finalization.{Finalization}
use Rattle.ada_program.specs.declared.program.Program.{Program}
use Rattle.ada_program.specs.ProgramForm.{TypeForm, record_of, access_to, object_of, ProgramForm, program_form}
use Rattle.ada_program.specs.WellFormed.{IsWellFormed, designated_in, finalization_in, finalization_of, is_access, named_in, object_named}
use Rattle.ada_sound.specs.Always.{spares_own_type, spare_own_types, SparesOwn}
use Rattle.ada_sound.proofs.FrugalUseEnds.{lying_does}
use Rattle.ada_sound.proofs.FrugalUseParts.{some_parts}
use Rattle.ada_typed.specs.Holding.{PartsLie}

-- What is so of each type is so of the one of a number.
spares_at : (implicit : Implicit) (from : ℕ) (types : List TypeForm) → spare_own_types implicit from types ≡ true → (i n : ℕ) → n ≡ from + i → (t : TypeForm) → slice_get types i ≡ Some t
    → spares_own_type implicit n t ≡ true
spares_at implicit from [] spares i n is t at = absurd (cc at)
spares_at implicit from (u ∷ types) spares zero n is t at =
    let here : spares_own_type implicit from u ≡ true = (and_parts (spares_own_type implicit from u) (spare_own_types implicit (suc from) types) spares).0 in
    let first : n ≡ from = omega (arith, is) in
    let same : u ≡ t = cc at in
    rw (first, ← same) here
spares_at implicit from (u ∷ types) spares (suc i) n is t at =
    spares_at implicit (suc from) types (and_parts (spares_own_type implicit from u) (spare_own_types implicit (suc from) types) spares).1 i n (omega (arith, is)) t at

-- The end of an object of an access type uses none of that type, and its adjustment frees none.
spares_both : (p : ProgramForm) → spare_own_types (implicit_of p) 0 p.types ≡ true → (t : ℕ) → is_access p.types t ≡ true
    → ((implicit_of p).end_reaches t t ≡ false) × ((implicit_of p).adjust_frees t t ≡ false)
spares_both p own t is = by (slice_get p.types t) refl is
  where
    by : (o : Option TypeForm) → slice_get p.types t ≡ o → is_some (designated_in o) ≡ true → ((implicit_of p).end_reaches t t ≡ false) × ((implicit_of p).adjust_frees t t ≡ false)
    by None at is' = absurd (cc is')
    by (Some (record_of name parts components finalization)) at is' = absurd (cc is')
    by (Some (access_to name designated pool)) at is' =
        let ends = (implicit_of p).end_reaches t t in
        let adjusts = (implicit_of p).adjust_frees t t in
        let both = and_parts (not ends) (not adjusts) (spares_at (implicit_of p) 0 p.types own t t (omega arith) (access_to name designated pool) at) in
        (not-true ends both.0, not-true adjusts both.1)
    by (Some (object_of record_type)) at is' = absurd (cc is')

-- So that end neither frees one nor follows a value of the type.
pub reaches_own_none : (p : ProgramForm) → spare_own_types (implicit_of p) 0 p.types ≡ true → (t : ℕ) → is_access p.types t ≡ true
    → (implicit_of p).end_reaches t t ≡ false
reaches_own_none p own t is = (spares_both p own t is).0

-- Where neither of two things is so, the first one is not.
first_not : (a b : Bool) → (a || b) ≡ false → a ≡ false
first_not true b none = absurd (cc none)
first_not false b none = refl

-- It frees none, and neither does the adjustment.
pub spares_end : (p : ProgramForm) → spare_own_types (implicit_of p) 0 p.types ≡ true → (t : ℕ) → is_access p.types t ≡ true
    → ((implicit_of p).end_frees t t ≡ false) × ((implicit_of p).adjust_frees t t ≡ false)
spares_end p own t is =
    let both = spares_both p own t is in
    let follows = parts_do (does_by p (Follows (record { 0 = t }))) Finalize (record_at p.types t) in
    (first_not ((implicit_of p).end_frees t t) follows both.0, both.1)

-- A record type with controlled parts is its own record type.
own_record : (types : List TypeForm) (t : ℕ) (f : Finalization) (o : Option TypeForm) → finalization_in o ≡ Some f → record_in t o ≡ Some t
own_record types t f None is = absurd (cc is)
own_record types t f (Some (record_of name parts components finalization)) is = refl
own_record types t f (Some (access_to name designated pool)) is = absurd (cc is)
own_record types t f (Some (object_of record_type)) is = absurd (cc is)

-- An assignment to a record with controlled parts (5.2) that lies in the objects of an access type frees none of that type.
pub assigned_spares : (program : Program) → IsWellFormed (program_form program) → SparesOwn program
    → (access record_type first part : ℕ) (f : Finalization) → PartsLie (program_form program).types (object_named (program_form program).types (Some access)) (Some record_type) first part
    → finalization_of (program_form program).types record_type ≡ Some f → is_access (program_form program).types access ≡ true
    → assignment_frees (implicit_of (program_form program)) access record_type ≡ true → ⊥
assigned_spares program well own access record_type first part f lie is accessed frees =
    by (or_cases ((implicit_of p).end_frees record_type access) ((implicit_of p).adjust_frees record_type access) frees)
  where
    p : ProgramForm
    p = program_form program

    spared : ((implicit_of p).end_frees access access ≡ false) × ((implicit_of p).adjust_frees access access ≡ false)
    spared = spares_end p own access accessed

    -- What an operation of the record frees, that of the object does.
    whole : (operation : Operation) → parts_do (does_by p (deed access)) operation (record_at p.types record_type) ≡ true → parts_do (does_by p (deed access)) operation (record_at p.types access) ≡ true
    whole operation done =
        let done_own : parts_do (does_by p (deed access)) operation (Some record_type) ≡ true = rw (own_record p.types record_type f (slice_get p.types record_type) is) at done in
        lying_does program well (deed access) operation access record_type first part (named_in (slice_get p.types access)) refl
        (lie.1 (some_parts p.types well.types_fit record_type (slice_get p.types record_type) f refl is))
        ((counts_are_enough p (deed access) (callee.Parts operation (record { 0 = record_type }))).0 done_own)

    by : ((implicit_of p).end_frees record_type access ≡ true) ⊎ ((implicit_of p).adjust_frees record_type access ≡ true) → ⊥
    by (inl ended) = cc (whole Finalize ended, spared.0)
    by (inr adjusted) = cc (whole Adjust adjusted, spared.1)
