-- What overrides an operation of a controlled type is a procedure for records of the type (7.6).

use Rattle.std.proofs.Common.{◌≡◌, ℕ, suc, ◌+◌, Bool, true, false, ◌&&◌, if◌then◌else◌, List, [], ◌∷◌, map, Option, Some, None, arith, refl, sym, ap, ◌∙◌, subst}
use Rattle.std.specs.Prelude.{find}
use Rattle.std.specs.List.{slice_get}
use Rattle.std.specs.Option.{option_map}
use Rattle.std.proofs.lemmas.Bool.{eqb-true}
use Rattle.std.proofs.lemmas.Option.{slice_get-map}
use Rattle.ada_program.specs.declared.program.Finalization.{Finalization}
use Rattle.ada_program.specs.declared.program.FormalMode.{FormalMode}
use Rattle.ada_program.specs.declared.program.FormalMode.TheVariants.{In, InOut}
use Rattle.ada_program.specs.declared.program.Operations.{Operations}
use Rattle.ada_program.specs.declared.program.ProcedureNo.{ProcedureNo}
use Rattle.ada_program.specs.declared.program.TypeDefinition.{TypeDefinition}
use Rattle.ada_program.specs.declared.program.TypeDefinition.TheVariants as definition
use Rattle.ada_program.specs.declared.program.TypeNo.{TypeNo}
use Rattle.ada_program.specs.declared.program.VariableKind.{VariableKind}
use Rattle.ada_program.specs.declared.program.VariableKind.TheVariants as variable
use Rattle.ada_program.specs.Controlled.{is_number, number_in, number_by, no_operations, operations_in, operations_by, operations_of, procedure_number}
use Rattle.ada_program.specs.ProgramForm.{TypeForm, BodyForm, ProgramForm, type_form}
use Rattle.ada_program.specs.WellFormed.{profile_of, callable_in, formal_kinds, finalization_in, is_this, object_in, stands_for, operates_on, is_operation, overrides_rightly, has_operations, have_operations}
use Rattle.ada_meaning.specs.declared.event.Birth.{Birth}
use Rattle.ada_meaning.specs.declared.event.Birth.TheVariants.{Creation, Copy, Adjustment}
use Rattle.ada_meaning.specs.Step.{beginning}
use Rattle.ada_typed.proofs.Operators.{and_left, and_right}
use Rattle.ada_typed.proofs.Parts.{shown_number}

-- A procedure overrides an operation of the type of a number: it is there, and has one formal parameter, which stands for a record of that type.
pub record OperationFor (p : ProgramForm) (of procedure : ℕ) : Type 0 where
  pub record_type : ℕ
  pub numbered : shown_number p.types (Some record_type) ≡ Some of
  pub body : BodyForm
  pub there : slice_get p.bodies procedure ≡ Some body
  pub object : TypeNo
  pub formals : formal_kinds body ≡ variable.Record object ∷ []
  pub known_by : object_in (slice_get p.types object.0) ≡ Some record_type

this_one : (t : ℕ) (o : Option ℕ) → is_this t o ≡ true → o ≡ Some t
this_one t None is = absurd (cc)
this_one t (Some u) is = ap (λ (n : ℕ). Some n) (eqb-true u t is)

-- By its profile.
abbrev StandsFor : List TypeForm → (record_type : ℕ) → List VariableKind → Type 0
StandsFor types t kinds = (object : TypeNo) × (kinds ≡ variable.Record object ∷ []) × (object_in (slice_get types object.0) ≡ Some t)

by_kind : (types : List TypeForm) (t : ℕ) (kind : VariableKind) → stands_for types t kind ≡ true → StandsFor types t (kind ∷ [])
by_kind types t variable.Integer is = absurd (cc)
by_kind types t variable.Boolean is = absurd (cc)
by_kind types t (variable.Access access) is = absurd (cc)
by_kind types t (variable.Record object) is = (object, refl, this_one t (object_in (slice_get types object.0)) is)

by_profile : (types : List TypeForm) (t : ℕ) (kinds : List VariableKind) (modes : List FormalMode) → operates_on types t kinds modes ≡ true → StandsFor types t kinds
by_profile types t [] modes is = absurd (cc)
by_profile types t (kind ∷ []) [] is = absurd (cc)
by_profile types t (kind ∷ []) (In ∷ modes) is = absurd (cc)
by_profile types t (kind ∷ []) (InOut ∷ []) is = by_kind types t kind is
by_profile types t (kind ∷ []) (InOut ∷ m ∷ modes) is = absurd (cc)
by_profile types t (kind ∷ other ∷ kinds) modes is = absurd (cc)

module _ (p : ProgramForm) where
  by_body : (t of procedure : ℕ) (o : Option BodyForm) → shown_number p.types (Some t) ≡ Some of → slice_get p.bodies procedure ≡ o → is_operation p.types t (option_map profile_of o) ≡ true → OperationFor p of procedure
  by_body t of procedure None numbered there is = absurd (cc)
  by_body t of procedure (Some b) numbered there is =
      let own = by_profile p.types t (formal_kinds b) b.formals is in
      record { record_type = t; numbered = numbered; body = b; there = there; object = own.0; formals = own.1; known_by = own.2 }

  -- What overrides one operation.
  abbrev Overrides : (of : ℕ) → Option ProcedureNo → Type 0
  Overrides of o = (procedure : ℕ) → procedure_number o ≡ Some procedure → OperationFor p of procedure

  by_right : (t of : ℕ) (o : Option ProcedureNo) → shown_number p.types (Some t) ≡ Some of → overrides_rightly p.types (callable_in p) t o ≡ true → Overrides of o
  by_right t of None numbered is procedure said = absurd (cc)
  by_right t of (Some number) numbered is procedure said =
      let same : number.0 ≡ procedure = cc in
      let found = sym (slice_get-map profile_of p.bodies number.0) in
      subst (OperationFor p of) same
      (by_body t of number.0 (slice_get p.bodies number.0) numbered refl (ap (is_operation p.types t) found ∙ is))

  -- What overrides any of the three.
  abbrev AllOverride : (of : ℕ) → Operations → Type 0
  AllOverride of operations = Overrides of operations.initialize × Overrides of operations.adjust × Overrides of operations.finalize

  none_override : (of : ℕ) → AllOverride of no_operations
  none_override of = (λ procedure said. absurd (cc), λ procedure said. absurd (cc), λ procedure said. absurd (cc))

  by_finalization : (t of : ℕ) (o : Option Finalization) → shown_number p.types (Some t) ≡ Some of → has_operations p.types (callable_in p) t o ≡ true → AllOverride of (operations_in o)
  by_finalization t of None numbered is = none_override of
  by_finalization t of (Some f) numbered is =
      let one = overrides_rightly p.types (callable_in p) t f.operations.initialize in
      let two = overrides_rightly p.types (callable_in p) t f.operations.adjust in
      let three = overrides_rightly p.types (callable_in p) t f.operations.finalize in
      let former = and_left (one && two) three is in (
        by_right t of f.operations.initialize numbered (and_left one two former),
        by_right t of f.operations.adjust numbered (and_right one two former),
        by_right t of f.operations.finalize numbered (and_right (one && two) three is),
      )

  is_it : (of : ℕ) (o : Option ℕ) → is_number of o ≡ true → o ≡ Some of
  is_it of None is = absurd (cc)
  is_it of (Some n) is = ap (λ (m : ℕ). Some m) (eqb-true n of is)

  by_type : (t of : ℕ) (d : TypeDefinition) → slice_get p.types t ≡ Some (type_form d) → is_number of (number_by (Some d)) ≡ true → has_operations p.types (callable_in p) t (finalization_in (Some (type_form d))) ≡ true → AllOverride of (operations_by (Some d))
  by_type t of (definition.Record name parts components finalization) at is has =
      by_finalization t of finalization (ap (λ (o : Option TypeForm). number_in (finalization_in o)) at ∙ is_it of (number_in finalization) is) has
  by_type t of (definition.Access name designated pool) at is has = none_override of
  by_type t of (definition.Object record_type) at is has = none_override of

  -- Of the types from a number on, the first that passes the test.
  by_types :
      (n of : ℕ) (types : List TypeDefinition) → ((i : ℕ) → slice_get p.types (n + i) ≡ slice_get (map type_form types) i)
      → have_operations p.types (callable_in p) n (map type_form types) ≡ true → AllOverride of (operations_by (find (λ d. is_number of (number_by (Some d))) types))
  by_types n of [] at have = none_override of
  by_types n of (d ∷ types) at have =
      go (is_number of (number_by (Some d))) refl
      (by_types (1 + n) of types (λ i. let same : 1 + n + i ≡ n + suc i = omega arith in ap (slice_get p.types) same ∙ at (suc i)) (and_right here later have))
    where
      here : Bool
      here = has_operations p.types (callable_in p) n (finalization_in (Some (type_form d)))

      later : Bool
      later = have_operations p.types (callable_in p) (1 + n) (map type_form types)

      go : (passes : Bool) → is_number of (number_by (Some d)) ≡ passes → AllOverride of (operations_by (find (λ u. is_number of (number_by (Some u))) types)) → AllOverride of (operations_by (if passes then Some d else find (λ u. is_number of (number_by (Some u))) types))
      go true is others =
          let first : n ≡ n + 0 = omega arith in
          by_type n of d (ap (slice_get p.types) first ∙ at 0) is (and_left here later have)
      go false is others = others

-- So it is for the operations that are found by the number of a type.
overriding :
    (p : ProgramForm) (types : List TypeDefinition) → map type_form types ≡ p.types → have_operations p.types (callable_in p) 0 p.types ≡ true → (of : ℕ)
    → AllOverride p of (operations_of types of)
overriding p types shown have of =
    by_types p 0 of types (λ i. let same : 0 + i ≡ i = omega arith in ap (slice_get p.types) same ∙ ap (λ (forms : List TypeForm). slice_get forms i) (sym shown))
    (ap (have_operations p.types (callable_in p) 0) shown ∙ have)

-- What begins a part, and what ends its value.
pub beginning_for :
    (p : ProgramForm) (types : List TypeDefinition) → map type_form types ≡ p.types → have_operations p.types (callable_in p) 0 p.types ≡ true
    → (by : Birth) (of procedure : ℕ) → beginning by (operations_of types of) ≡ Some procedure → OperationFor p of procedure
beginning_for p types shown have Creation of procedure is = (overriding p types shown have of).0 procedure is
beginning_for p types shown have Copy of procedure is = (overriding p types shown have of).1 procedure is
beginning_for p types shown have (Adjustment number) of procedure is = (overriding p types shown have of).1 procedure is

pub ending_for :
    (p : ProgramForm) (types : List TypeDefinition) → map type_form types ≡ p.types → have_operations p.types (callable_in p) 0 p.types ≡ true
    → (of procedure : ℕ) → procedure_number (operations_of types of).finalize ≡ Some procedure → OperationFor p of procedure
ending_for p types shown have of procedure is = (overriding p types shown have of).2 procedure is
