-- A procedure calls another one, which allocates an object of which a part is initialized, beside an object of an access type that all bodies shun.

use Rattle.std.proofs.Common.{◌≡◌, ℕ, Bool, false, true, ◌==◌, ◌||◌, List, [], ◌∷◌, arith, refl, sym, ap, subst, inl, inr}
use Rattle.std.specs.Prelude.{Some, None, if◌then◌else◌, pos}
use Rattle.std.specs.List.{slice_get}
use Rattle.std.proofs.lemmas.Bool.{eqb-true, or_cases}
use Rattle.ada_values.specs.declared.value.Value.TheVariants as scalar
use Rattle.ada_program.specs.declared.program.Actual.TheVariants as actual
use Rattle.ada_program.specs.declared.program.ComponentKind.TheVariants as kind
use Rattle.ada_program.specs.declared.program.Declaration.TheVariants as declaration
use Rattle.ada_program.specs.declared.program.Finalization.{Finalization}
use Rattle.ada_program.specs.declared.program.FormalMode.TheVariants as mode
use Rattle.ada_program.specs.declared.program.Part.{Part}
use Rattle.ada_program.specs.declared.program.PartKind.TheVariants as part
use Rattle.ada_program.specs.declared.program.Procedure.{Procedure}
use Rattle.ada_program.specs.declared.program.Program.{Program}
use Rattle.ada_program.specs.declared.program.Right.TheVariants as right
use Rattle.ada_program.specs.declared.program.Stmt as stmt
use Rattle.ada_program.specs.declared.program.TypeDefinition.{TypeDefinition}
use Rattle.ada_program.specs.declared.program.TypeDefinition.TheVariants as definition
use Rattle.ada_program.specs.declared.program.VariableKind.TheVariants as variable
use Rattle.ada_program.specs.Controlled.{operations_by, operations_of, procedure_number}
use Rattle.ada_program.specs.Form.{expression_form, stmt_form}
use Rattle.ada_program.specs.ProgramForm.{body_form, program_form}
use Rattle.ada_program.specs.WellFormed.{IsWellFormed}
use Rattle.ada_meaning.specs.declared.state.Stage.TheVariants.{Existing}
use Rattle.ada_meaning.specs.declared.state.Value.TheVariants.{Scalar}
use Rattle.ada_meaning.specs.Named.{Object, next}
use Rattle.ada_meaning.specs.Run.{settled, grants, here, there}
use Rattle.ada_meaning.proofs.OperationExamples.{component_of, known_by}
use Rattle.ada_typed.proofs.Example.{vec, no_name, spot, parts}
use Rattle.ada_reaching.specs.Apart.{Apart, whole}
use Rattle.ada_reaching.specs.Forms.{body_shuns}
use Rattle.ada_reaching.specs.Deeds.{AreShaped, UseNone}
use Rattle.ada_reaching.specs.Law.{AreApart}
use Rattle.ada_reaching.specs.Reaching.{none_unnamed}
use Rattle.ada_reaching.specs.Example.{InitializationIsMet}
use Rattle.ada_reaching.proofs.ExampleParts.{far_path, one_statement, program, well_by, shuns, found_shuns, UsesNone, uses_none, none_used, first_near, first_ghost, first_there, one_low, of_main, of_fill, of_first, done_shun, no_end}

-- The parent part of Box, and Value : Integer := 0,
abbrev box_parts : List Part
box_parts = component_of part.Parent 0 0 ∷ component_of (part.Elementary (kind.Integer (pos 0))) 0 1 ∷ []

-- the third procedure, which overrides Initialize,
abbrev boxed : Finalization
boxed = record {
  number = record { 0 = 0 };
  parts = 1;
  limited = true;
  operations = record { initialize = Some (record { 0 = 2 }); adjust = None; finalize = None };
}

-- and all of it: type Box is new Limited_Controlled with record Value : Integer := 0; end record;
abbrev box : TypeDefinition
box = definition.Record no_name (vec box_parts (omega arith)) (vec (kind.Integer (pos 0) ∷ []) (omega arith)) (Some boxed)

-- Cell and Near; Box; type Owner is access Box; and what the formal parameter of Initialize is known by.
abbrev box_types : List TypeDefinition
box_types =
    definition.Record no_name (vec parts (omega arith)) (vec (kind.Integer (pos 0) ∷ []) (omega arith)) None
    ∷ definition.Access no_name (record { 0 = 0 }) None
    ∷ box
    ∷ definition.Access no_name (record { 0 = 2 }) None
    ∷ definition.Object (record { 0 = 2 })
    ∷ []

-- procedure Make (B : in out Owner) is begin B := new Box; end Make;
abbrev make_box : Procedure
make_box =
    one_statement (vec (mode.InOut ∷ []) (omega arith))
    (vec (record { name = no_name; spot = spot; kind = variable.Access (record { 0 = 3 }); borrows = false } ∷ []) (omega arith)) (vec [] (omega arith))
    (stmt.Assign far_path (right.Default (record { 0 = 3 })))

-- overriding procedure Initialize (B : in out Box) is begin null; end Initialize;
abbrev initialize_box : Procedure
initialize_box = one_statement (vec (mode.InOut ∷ []) (omega arith)) (vec (known_by 4 ∷ []) (omega arith)) (vec [] (omega arith)) stmt.Null

-- procedure Fill is X : Owner; Y : Near := new Cell; begin Make (X); end Fill;
abbrev fill : Procedure
fill =
    one_statement (vec [] (omega arith))
    (vec
    (record { name = no_name; spot = spot; kind = variable.Access (record { 0 = 3 }); borrows = false }
    ∷ record { name = no_name; spot = spot; kind = variable.Access (record { 0 = 1 }); borrows = false } ∷ []) (omega arith))
    (vec (declaration.Variable (record { 0 = 0 }) None ∷ declaration.Variable (record { 0 = 1 }) (Some (right.Default (record { 0 = 1 }))) ∷ []) (omega arith))
    (stmt.Call (record { 0 = 0 }) (vec (actual.InOutAccess far_path ∷ []) (omega arith)))

-- begin Fill; end;
abbrev makes : Program
makes = record (program make_box stmt.Null) { types = vec box_types (omega arith); procedures = vec (make_box ∷ fill ∷ initialize_box ∷ []) (omega arith) }

-- It is well formed.
makes_well : IsWellFormed (program_form makes)
unfolding expression_form stmt_form
makes_well = well_by (program_form makes) refl refl

-- Make and Initialize may be called, and objects of Owner be allocated.
abbrev beside : Apart
beside = record {
  calls = λ procedure. (procedure == 0) || (procedure == 2);
  ends = λ access. false;
  starts = λ access. access == 3;
  assigns = λ r. false;
  copies = λ r. false;
  definitions = box_types;
}

-- What holds of the first procedure and of the third one holds of those.
of_both : (P : ℕ → Type 0) → P 0 → P 2 → (procedure : ℕ) → beside.calls procedure ≡ true → P procedure
of_both P one other procedure is = elim (or_cases (procedure == 0) (procedure == 2) is) [
  | inl first ↦ subst P (sym (eqb-true procedure 0 first)) one
  | inr third ↦ subst P (sym (eqb-true procedure 2 third)) other
]

-- Box overrides Initialize by the third one,
overrides_by : (is_box : Bool) (number : ℕ) → procedure_number (operations_by (if is_box then Some box else None)).initialize ≡ Some number → number ≡ 2
overrides_by true number is = cc
overrides_by false number is = absurd (cc)

-- and no Finalize.
overrides_none : (is_box : Bool) (number : ℕ) → procedure_number (operations_by (if is_box then Some box else None)).finalize ≡ Some number → ⊥
overrides_none true number is = cc is
overrides_none false number is = cc is

-- No other type overrides any.
overrides_third : (of number : ℕ) → procedure_number (operations_of box_types of).initialize ≡ Some number → number ≡ 2
overrides_third of = overrides_by (0 == of)

-- So no Finalize is overridden.
finalizes_none : (of number : ℕ) → procedure_number (operations_of box_types of).finalize ≡ Some number → ⊥
finalizes_none of = overrides_none (0 == of)

-- Where both shun some types, so it is with all that is called.
both_apart :
    (shunned : ℕ → Bool) → body_shuns (program_form makes).types shunned beside (body_form make_box) ≡ true
    → body_shuns (program_form makes).types shunned beside (body_form initialize_box) ≡ true → AreApart (program_form makes) box_types shunned beside
both_apart shunned one other = record {
  own = refl;
  bodies = λ procedure b among.
      of_both (λ n. slice_get (program_form makes).bodies n ≡ Some b → body_shuns (program_form makes).types shunned beside b ≡ true)
      (found_shuns (program_form makes) shunned beside (body_form make_box) b (Some (body_form make_box)) refl one)
      (found_shuns (program_form makes) shunned beside (body_form initialize_box) b (Some (body_form initialize_box)) refl other) procedure among;
  operations = record {
    finalizes = λ access of part number tasks ends left overrides. absurd (cc ends);
    initializes = λ access of part number starts begun overrides. ap beside.calls (overrides_third of number overrides);
    undoes = λ access of part number starts begun overrides. absurd (finalizes_none of number overrides);
    overwrites = λ record_type of part number tasks assigned left said. absurd (cc assigned);
    adjusts = λ record_type of part number tasks copied left overrides. absurd (cc copied);
  };
}

-- They shun Near,
makes_apart : AreApart (program_form makes) box_types shuns beside
unfolding stmt_form
makes_apart = both_apart shuns refl refl

-- are of that shape,
makes_shaped : AreShaped (program_form makes) box_types beside
unfolding stmt_form
makes_shaped = both_apart (λ access. false) refl refl

-- follow no value of Near, and free none.
makes_unused : UseNone (program_form makes) shuns beside
unfolding expression_form stmt_form
makes_unused =
    none_used (program_form makes) beside
    (of_both (λ n. UsesNone (program_form makes) n) (uses_none (program_form makes) 0 refl refl) (uses_none (program_form makes) 2 refl refl))

-- The object that is allocated: its controlled part has no value yet.
abbrev new_box : Object
new_box = record {
  cell = record {
    access = 3;
    number = 2;
    home = record { item = 1; pool = Some 0; subpool = None };
    values = Scalar (scalar.Integer (pos 0)) ∷ [];
    parts = record { alive = false; turn = 0; number = 0; first = 0 } ∷ [];
  };
  stage = Existing;
  listed = true;
  out = true;
}

-- The first object is allocated, Make is called, and the Initialize of the object that it allocates is about to begin.
pub initialization_is_met : InitializationIsMet
unfolding next expression_form stmt_form
initialization_is_met = (
  makes,
  makes_well,
  (
    [],
    _,
    _,
    there settled _ (refl, refl) (there settled _ (refl, refl) (there settled _ (refl, refl) (there settled _ (refl, refl) (there settled _ (refl, refl)
        (there settled _ (refl, refl) (there settled _ (refl, refl) (there settled _ (refl, refl) (there settled _ (refl, refl)
        (there settled _ (refl, refl) (there (grants true) _ (refl, refl) (there settled _ (refl, refl) (there settled _ (refl, refl)
        (there settled _ (refl, refl) (there settled _ (refl, refl) (there settled _ (refl, refl) (there settled _ (refl, refl)
        (there settled _ (refl, refl) (there settled _ (refl, refl) (there (grants true) _ (refl, refl) here))))))))))))))))))),
    (
      shuns,
      beside,
      first_ghost,
      none_unnamed,
      _,
      of_main,
      body_form make_box,
      _,
      record {
        runs_beside = record {
          are_apart = makes_apart;
          shaped = makes_shaped;
          unused = makes_unused;
          runs_on = record { procedure = 0; runs = refl; body = refl; steps = (_, refl) };
          shuns_all = refl;
          reaching = record {
            ghosts_there = first_there (program_form makes).types (new_box ∷ []) refl;
            are_ghosts = λ o is. absurd (cc);
            low = one_low of_main (first_near ∷ new_box ∷ []) 0 first_near refl (omega arith);
            places = (tt, tt);
            operands = (refl, tt);
            upper = of_first ∷ of_fill ∷ [];
            masters = refl;
            control = (
              (refl, inl (record { access = 3; may = refl; created = refl; left = whole; begun = tt })),
              refl,
              (
                tt,
                refl,
                done_shun (program_form makes) beside first_ghost none_unnamed _ of_main _ of_first of_fill _ _ tt
                    ((tt, omega arith), ((tt, omega arith), tt)) (tt, (refl, tt)),
              ),
            );
            jumps = tt;
            seeks = λ x at. tt;
          };
          within = record { on = no_end _ refl _ _; houses = tt };
          ghost = record { 0 = 0 };
          is_ghost = refl;
        };
        created = record { 0 = 1 };
        object = new_box;
        is_there = refl;
        may_be_allocated = refl;
        of = _;
        part = _;
        tasks = _;
        later = _;
        is_next = refl;
        initialize = 2;
        overrides = refl;
        may_be_called = refl;
        runs = refl;
        waits = refl;
      },
    ),
  ),
)
