-- A procedure calls another one, which frees an object of which a part is finalized, beside an object of an access type that all bodies shun.

use Rattle.std.proofs.Common.{◌≡◌, ℕ, Bool, false, true, ◌==◌, ◌||◌, List, [], ◌∷◌, arith, refl, sym, ap, subst, inl, inr}
use Rattle.std.specs.Prelude.{Some, None, if◌then◌else◌, pos}
use Rattle.std.specs.List.{slice_get}
use Rattle.std.proofs.lemmas.Bool.{eqb-true, or_cases}
use Rattle.ada_values.specs.declared.value.Value.TheVariants as scalar
use Rattle.ada_program.specs.declared.program.Actual.TheVariants as actual
use Rattle.ada_program.specs.declared.program.ComponentKind.TheVariants as kind
use Rattle.ada_program.specs.declared.program.Finalization.{Finalization}
use Rattle.ada_program.specs.declared.program.FormalMode.TheVariants as mode
use Rattle.ada_program.specs.declared.program.Part.{Part}
use Rattle.ada_program.specs.declared.program.PartKind.TheVariants as part
use Rattle.ada_program.specs.declared.program.Procedure.{Procedure}
use Rattle.ada_program.specs.declared.program.Program.{Program}
use Rattle.ada_program.specs.declared.program.Stmt.{Stmt}
use Rattle.ada_program.specs.declared.program.Stmt as stmt
use Rattle.ada_program.specs.declared.program.TypeDefinition.{TypeDefinition}
use Rattle.ada_program.specs.declared.program.TypeDefinition.TheVariants as definition
use Rattle.ada_program.specs.declared.program.VariableKind.TheVariants as variable
use Rattle.ada_program.specs.Controlled.{operations_by, operations_of, procedure_number}
use Rattle.ada_program.specs.Form.{expression_form, stmt_form}
use Rattle.ada_program.specs.ProgramForm.{body_form, program_form}
use Rattle.ada_program.specs.WellFormed.{IsWellFormed}
use Rattle.ada_meaning.specs.declared.state.Stage.TheVariants.{Existing}
use Rattle.ada_meaning.specs.declared.state.Value.TheVariants.{Scalar}
use Rattle.ada_meaning.specs.Named.{Object, next}
use Rattle.ada_meaning.specs.Run.{settled, grants, here, there}
use Rattle.ada_meaning.proofs.OperationExamples.{component_of, known_by}
use Rattle.ada_typed.proofs.Example.{vec, no_name, spot, parts}
use Rattle.ada_reaching.specs.Apart.{Apart, whole}
use Rattle.ada_reaching.specs.Forms.{body_shuns}
use Rattle.ada_reaching.specs.Deeds.{AreShaped, UseNone}
use Rattle.ada_reaching.specs.Law.{AreApart}
use Rattle.ada_reaching.specs.Reaching.{none_unnamed}
use Rattle.ada_reaching.specs.Example.{FinalizationIsMet}
use Rattle.ada_reaching.proofs.ExampleParts.{far_path, one_statement, fill, program, well_by, shuns, found_shuns, UsesNone, uses_none, none_used, near, ghosts, second_there, one_low, of_main, of_fill, of_first, done_shun, no_end}

-- The parent part of Box, and Value : Integer := 0,
abbrev box_parts : List Part
box_parts = component_of part.Parent 0 0 ∷ component_of (part.Elementary (kind.Integer (pos 0))) 0 1 ∷ []

-- the third procedure, which overrides Finalize,
abbrev boxed : Finalization
boxed = record {
  number = record { 0 = 0 };
  parts = 1;
  limited = true;
  operations = record { initialize = None; adjust = None; finalize = Some (record { 0 = 2 }) };
}

-- and all of it: type Box is new Limited_Controlled with record Value : Integer := 0; end record;
abbrev pub box : TypeDefinition
box = definition.Record no_name (vec box_parts (omega arith)) (vec (kind.Integer (pos 0) ∷ []) (omega arith)) (Some boxed)

-- Cell and Near; Box; type Owner is access Box; and what the formal parameter of Finalize is known by.
abbrev pub box_types : List TypeDefinition
box_types =
    definition.Record no_name (vec parts (omega arith)) (vec (kind.Integer (pos 0) ∷ []) (omega arith)) None
    ∷ definition.Access no_name (record { 0 = 0 }) None
    ∷ box
    ∷ definition.Access no_name (record { 0 = 2 }) None
    ∷ definition.Object (record { 0 = 2 })
    ∷ []

-- procedure Drop (B : in out Owner) is begin Free (B); end Drop;
abbrev drop_box : Procedure
drop_box =
    one_statement (vec (mode.InOut ∷ []) (omega arith))
    (vec (record { name = no_name; spot = spot; kind = variable.Access (record { 0 = 3 }); borrows = false } ∷ []) (omega arith)) (vec [] (omega arith))
    (stmt.Free (record { 0 = 3 }) far_path)

-- overriding procedure Finalize (B : in out Box) is begin null; end Finalize;
abbrev pub finalize_box : Procedure
finalize_box = one_statement (vec (mode.InOut ∷ []) (omega arith)) (vec (known_by 4 ∷ []) (omega arith)) (vec [] (omega arith)) stmt.Null

-- Drop (X);
abbrev drops_x : Stmt
drops_x = stmt.Call (record { 0 = 0 }) (vec (actual.InOutAccess far_path ∷ []) (omega arith))

-- procedure Fill is X : Owner := new Box; Y : Near := new Cell; begin Drop (X); end Fill;
abbrev drops : Program
drops = record (program drop_box drops_x) {
  types = vec box_types (omega arith);
  procedures = vec (drop_box ∷ fill drops_x ∷ finalize_box ∷ []) (omega arith);
}

-- It is well formed.
drops_well : IsWellFormed (program_form drops)
unfolding expression_form stmt_form
drops_well = well_by (program_form drops) refl refl

-- Drop and Finalize may be called, and objects of Owner be freed, but not allocated.
abbrev beside : Apart
beside = record {
  calls = λ procedure. (procedure == 0) || (procedure == 2);
  ends = λ access. access == 3;
  starts = λ access. false;
  assigns = λ r. false;
  copies = λ r. false;
  definitions = box_types;
}

-- What holds of the first procedure and of the third one holds of those.
pub of_both : (P : ℕ → Type 0) → P 0 → P 2 → (procedure : ℕ) → beside.calls procedure ≡ true → P procedure
of_both P one other procedure is = elim (or_cases (procedure == 0) (procedure == 2) is) [
  | inl first ↦ subst P (sym (eqb-true procedure 0 first)) one
  | inr third ↦ subst P (sym (eqb-true procedure 2 third)) other
]

-- Box overrides Finalize by the third one,
pub overrides_by : (is_box : Bool) (number : ℕ) → procedure_number (operations_by (if is_box then Some box else None)).finalize ≡ Some number → number ≡ 2
overrides_by true number is = cc
overrides_by false number is = absurd (cc)

-- and no other type does.
overrides_third : (of number : ℕ) → procedure_number (operations_of box_types of).finalize ≡ Some number → number ≡ 2
overrides_third of = overrides_by (0 == of)

-- Where both shun some types, so it is with all that is called.
both_apart :
    (shunned : ℕ → Bool) → body_shuns (program_form drops).types shunned beside (body_form drop_box) ≡ true
    → body_shuns (program_form drops).types shunned beside (body_form finalize_box) ≡ true → AreApart (program_form drops) box_types shunned beside
both_apart shunned one other = record {
  own = refl;
  bodies = λ procedure b among.
      of_both (λ n. slice_get (program_form drops).bodies n ≡ Some b → body_shuns (program_form drops).types shunned beside b ≡ true)
      (found_shuns (program_form drops) shunned beside (body_form drop_box) b (Some (body_form drop_box)) refl one)
      (found_shuns (program_form drops) shunned beside (body_form finalize_box) b (Some (body_form finalize_box)) refl other) procedure among;
  operations = record {
    finalizes = λ access of part number tasks ends left overrides. ap beside.calls (overrides_third of number overrides);
    initializes = λ access of part number starts begun overrides. absurd (cc starts);
    undoes = λ access of part number starts begun overrides. absurd (cc starts);
    overwrites = λ record_type of part number tasks assigned left said. absurd (cc assigned);
    adjusts = λ record_type of part number tasks copied left overrides. absurd (cc copied);
  };
}

-- They shun Near,
drops_apart : AreApart (program_form drops) box_types shuns beside
unfolding stmt_form
drops_apart = both_apart shuns refl refl

-- are of that shape,
drops_shaped : AreShaped (program_form drops) box_types beside
unfolding stmt_form
drops_shaped = both_apart (λ access. false) refl refl

-- follow no value of Near, and free none.
drops_unused : UseNone (program_form drops) shuns beside
unfolding expression_form stmt_form
drops_unused =
    none_used (program_form drops) beside
    (of_both (λ n. UsesNone (program_form drops) n) (uses_none (program_form drops) 0 refl refl) (uses_none (program_form drops) 2 refl refl))

-- The object that is freed: it has left its collection, and its controlled part has a value.
abbrev freed_box : Object
freed_box = record {
  cell = record {
    access = 3;
    number = 1;
    home = record { item = 1; pool = Some 0; subpool = None };
    values = Scalar (scalar.Integer (pos 0)) ∷ [];
    parts = record { alive = true; turn = 0; number = 1; first = 0 } ∷ [];
  };
  stage = Existing;
  listed = false;
  out = true;
}

-- Both objects are allocated, Drop is called, and the Finalize of the object that it frees is about to begin.
pub finalization_is_met : FinalizationIsMet
unfolding next expression_form stmt_form
finalization_is_met = (
  drops,
  drops_well,
  (
    [],
    _,
    _,
    there settled _ (refl, refl) (there settled _ (refl, refl) (there settled _ (refl, refl) (there settled _ (refl, refl) (there settled _ (refl, refl)
        (there settled _ (refl, refl) (there settled _ (refl, refl) (there (grants true) _ (refl, refl) (there settled _ (refl, refl)
        (there settled _ (refl, refl) (there settled _ (refl, refl) (there settled _ (refl, refl) (there (grants true) _ (refl, refl)
        (there settled _ (refl, refl) (there settled _ (refl, refl) (there settled _ (refl, refl) (there settled _ (refl, refl)
        (there settled _ (refl, refl) (there settled _ (refl, refl) (there settled _ (refl, refl) here))))))))))))))))))),
    (
      shuns,
      beside,
      ghosts,
      none_unnamed,
      _,
      of_main,
      body_form drop_box,
      _,
      record {
        runs_beside = record {
          are_apart = drops_apart;
          shaped = drops_shaped;
          unused = drops_unused;
          runs_on = record { procedure = 0; runs = refl; body = refl; steps = (_, refl) };
          shuns_all = refl;
          reaching = record {
            ghosts_there = second_there (program_form drops).types freed_box refl;
            are_ghosts = λ o is. absurd (cc);
            low = one_low of_main (freed_box ∷ near ∷ []) 1 near refl (omega arith);
            places = (refl, tt);
            operands = tt;
            upper = of_first ∷ of_fill ∷ [];
            masters = refl;
            control = (
              (refl, (3, inl (refl, whole))),
              refl,
              (
                refl,
                refl,
                (
                  refl,
                  refl,
                  (
                    tt,
                    refl,
                    done_shun (program_form drops) beside ghosts none_unnamed _ of_main _ of_first of_fill _ _ tt
                        ((tt, omega arith), ((tt, omega arith), tt)) (refl, (refl, tt)),
                  ),
                ),
              ),
            );
            jumps = tt;
            seeks = tt;
          };
          within = record { on = no_end _ refl _ _; houses = tt };
          ghost = record { 0 = 1 };
          is_ghost = refl;
        };
        freed = record { 0 = 0 };
        object = freed_box;
        is_there = refl;
        may_be_freed = refl;
        number = _;
        of = _;
        part = _;
        tasks = _;
        later = _;
        is_next = refl;
        finalize = 2;
        overrides = refl;
        may_be_called = refl;
        begins = refl;
        waits = refl;
      },
    ),
  ),
)
