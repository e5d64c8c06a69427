-- A procedure calls another one, which declares a record object of which a part is finalized as its master is left, beside an object of an access type that all
-- bodies shun.

use Rattle.std.proofs.Common.{◌≡◌, ◌<◌, ℕ, zero, suc, Bool, false, true, ◌==◌, ◌||◌, List, [], ◌∷◌, ◌++◌, arith, refl, sym, ap, subst, inl}
use Rattle.std.specs.Prelude.{Some, None, if◌then◌else◌, pos}
use Rattle.std.specs.List.{slice_get}
use Rattle.ada_values.specs.declared.value.Value.TheVariants as scalar
use Rattle.ada_program.specs.declared.program.Declaration.TheVariants as declaration
use Rattle.ada_program.specs.declared.program.Procedure.{Procedure}
use Rattle.ada_program.specs.declared.program.Program.{Program}
use Rattle.ada_program.specs.declared.program.Right.TheVariants as right
use Rattle.ada_program.specs.declared.program.Stmt as stmt
use Rattle.ada_program.specs.declared.program.TypeDefinition.{TypeDefinition}
use Rattle.ada_program.specs.declared.program.TypeDefinition.TheVariants as definition
use Rattle.ada_program.specs.declared.program.VariableKind.TheVariants as variable
use Rattle.ada_program.specs.Controlled.{operations_by, operations_of, procedure_number}
use Rattle.ada_program.specs.Form.{expression_form, stmt_form}
use Rattle.ada_program.specs.ProgramForm.{body_form, program_form}
use Rattle.ada_program.specs.WellFormed.{IsWellFormed}
use Rattle.ada_meaning.specs.declared.state.Mode.TheVariants.{Running}
use Rattle.ada_meaning.specs.declared.state.Stage.TheVariants.{Existing}
use Rattle.ada_meaning.specs.declared.state.Value.{Value}
use Rattle.ada_meaning.specs.declared.state.Value.TheVariants.{Names, Scalar}
use Rattle.ada_meaning.specs.Frame.{Frame}
use Rattle.ada_meaning.specs.Frame as frame
use Rattle.ada_meaning.specs.Heap.{PartState}
use Rattle.ada_meaning.specs.Named.{Object, is_member, next}
use Rattle.ada_meaning.specs.Run.{settled, grants, here, there}
use Rattle.ada_meaning.specs.State.{Activation, declared, record_object, Item, Master}
use Rattle.ada_meaning.proofs.OperationExamples.{known_by}
use Rattle.ada_typed.proofs.Example.{vec, no_name, spot}
use Rattle.ada_reaching.specs.Apart.{Apart, whole}
use Rattle.ada_reaching.specs.Forms.{body_shuns}
use Rattle.ada_reaching.specs.Deeds.{AreShaped, UseNone}
use Rattle.ada_reaching.specs.Law.{AreApart}
use Rattle.ada_reaching.specs.Reaching.{none_unnamed, LeftShuns}
use Rattle.ada_reaching.specs.Example.{DeclarationIsMet}
use Rattle.ada_reaching.proofs.ExampleParts.{one_statement, program, well_by, shuns, found_shuns, UsesNone, uses_none, none_used, first_near, first_ghost, first_there, one_low, of_main, done, end_shuns, no_end}
use Rattle.ada_reaching.proofs.ExampleFinalizes.{box, box_types, finalize_box, of_both, overrides_by}

-- Cell and Near; Box, whose Finalize is overridden, and an access type; what the formal parameter of Finalize is known by, and the object that is declared.
abbrev declared_types : List TypeDefinition
declared_types = box_types ++ definition.Object (record { 0 = 2 }) ∷ []

-- procedure Keep is B : Box; begin null; end Keep;
abbrev keep_box : Procedure
keep_box =
    one_statement (vec [] (omega arith)) (vec (known_by 5 ∷ []) (omega arith))
    (vec (declaration.Record (record { 0 = 0 }) (record { 0 = 5 }) None ∷ []) (omega arith)) stmt.Null

-- procedure Fill is Y : Near := new Cell; begin Keep; end Fill;
abbrev fill : Procedure
fill =
    one_statement (vec [] (omega arith))
    (vec (record { name = no_name; spot = spot; kind = variable.Access (record { 0 = 1 }); borrows = false } ∷ []) (omega arith))
    (vec (declaration.Variable (record { 0 = 0 }) (Some (right.Default (record { 0 = 1 }))) ∷ []) (omega arith))
    (stmt.Call (record { 0 = 0 }) (vec [] (omega arith)))

-- begin Fill; end;
abbrev keeps : Program
keeps = record (program keep_box stmt.Null) {
  types = vec declared_types (omega arith);
  procedures = vec (keep_box ∷ fill ∷ finalize_box ∷ []) (omega arith);
}

-- It is well formed.
keeps_well : IsWellFormed (program_form keeps)
unfolding expression_form stmt_form
keeps_well = well_by (program_form keeps) refl refl

-- Keep and Finalize may be called, and such objects be declared.
abbrev beside : Apart
beside = record {
  calls = λ procedure. (procedure == 0) || (procedure == 2);
  ends = λ t. t == 5;
  starts = λ t. t == 5;
  assigns = λ r. false;
  copies = λ r. false;
  definitions = declared_types;
}

-- Box alone overrides Finalize, by the third procedure,
overrides_third : (of number : ℕ) → procedure_number (operations_of declared_types of).finalize ≡ Some number → number ≡ 2
overrides_third of = overrides_by (0 == of)

-- and no Initialize,
overrides_none : (is_box : Bool) (number : ℕ) → procedure_number (operations_by (if is_box then Some box else None)).initialize ≡ Some number → ⊥
overrides_none true number is = cc is
overrides_none false number is = cc is

-- nor does another type.
initializes_none : (of number : ℕ) → procedure_number (operations_of declared_types of).initialize ≡ Some number → ⊥
initializes_none of = overrides_none (0 == of)

-- Where both shun some types, so it is with all that is called.
both_apart :
    (shunned : ℕ → Bool) → body_shuns (program_form keeps).types shunned beside (body_form keep_box) ≡ true
    → body_shuns (program_form keeps).types shunned beside (body_form finalize_box) ≡ true → AreApart (program_form keeps) declared_types shunned beside
both_apart shunned one other = record {
  own = refl;
  bodies = λ procedure b among.
      of_both (λ n. slice_get (program_form keeps).bodies n ≡ Some b → body_shuns (program_form keeps).types shunned beside b ≡ true)
      (found_shuns (program_form keeps) shunned beside (body_form keep_box) b (Some (body_form keep_box)) refl one)
      (found_shuns (program_form keeps) shunned beside (body_form finalize_box) b (Some (body_form finalize_box)) refl other) procedure among;
  operations = record {
    finalizes = λ access of part number tasks ends left overrides. ap beside.calls (overrides_third of number overrides);
    initializes = λ access of part number starts begun overrides. absurd (initializes_none of number overrides);
    undoes = λ access of part number starts begun overrides. ap beside.calls (overrides_third of number overrides);
    overwrites = λ record_type of part number tasks assigned left said. absurd (cc assigned);
    adjusts = λ record_type of part number tasks copied left overrides. absurd (cc copied);
  };
}

-- They shun Near,
keeps_apart : AreApart (program_form keeps) declared_types shuns beside
unfolding stmt_form
keeps_apart = both_apart shuns refl refl

-- are of that shape,
keeps_shaped : AreShaped (program_form keeps) declared_types beside
unfolding stmt_form
keeps_shaped = both_apart (λ access. false) refl refl

-- follow no value of Near, and free none.
keeps_unused : UseNone (program_form keeps) shuns beside
unfolding expression_form stmt_form
keeps_unused =
    none_used (program_form keeps) beside
    (of_both (λ n. UsesNone (program_form keeps) n) (uses_none (program_form keeps) 0 refl refl) (uses_none (program_form keeps) 2 refl refl))

-- The value of the controlled part of the object that is declared.
abbrev value : PartState
value = record { alive = true; turn = 0; number = 1; first = 0 }

-- That object,
abbrev present_box : Object
present_box = record {
  cell = record {
    access = 5;
    number = 0;
    home = record { item = 3; pool = None; subpool = None };
    values = Scalar (scalar.Integer (pos 0)) ∷ [];
    parts = value ∷ [];
  };
  stage = Existing;
  listed = true;
  out = true;
}

-- and as it is taken out.
abbrev taken_box : Object
taken_box = record present_box { listed = false }

-- The item of it,
abbrev own_item : Item
own_item = record { number = 3; owned = record_object 5 }

-- which Keep owns,
abbrev of_keep : Master
of_keep = record { number = 2; items = own_item ∷ [] }

-- and what Fill owns: Y.
abbrev of_fill : Master
of_fill = record { number = 1; items = record { number = 2; owned = declared 0 } ∷ [] }

-- What is left of Keep, whose master is left, shuns Near, and so does Fill.
left_shuns :
    (behind : List (Frame Value)) (suspended : List (Activation Value))
    → LeftShuns (program_form keeps) shuns beside first_ghost none_unnamed behind of_main (Some 0)
    (frame.Leaves Running ∷ frame.Returns [] [] ∷ done (frame.Returns [] [] ∷ behind)) (of_keep ∷ of_fill ∷ [])
    (record { procedure = Some 1; places = Names (record { 0 = 0 }) ∷ []; operands = [] } ∷ suspended)
left_shuns behind suspended = (
  tt,
  refl,
  (
    ((refl, omega arith), tt),
    end_shuns (program_form keeps) beside first_ghost none_unnamed behind of_main [] of_fill _ suspended ((tt, omega arith), tt) (refl, tt),
  ),
)

-- The object alone goes with its item, and is of its type.
houses_own :
    (n : ℕ) (x : Object) → slice_get (first_near ∷ present_box ∷ []) n ≡ Some x → is_member 3 x ≡ true → Some 5 ≡ Some x.cell.access
houses_own zero x at is =
    let same : first_near ≡ x = cc (at) in
    let member : false ≡ true = subst (λ (y : Object). is_member 3 y ≡ true) (sym same) is in
    absurd (cc member)
houses_own (suc zero) x at is =
    let same : present_box ≡ x = cc (at) in
    ap (λ (y : Object). Some y.cell.access) same
houses_own (suc (suc n)) x at is = absurd (cc at)

-- So the first one is taken.
first_of_one : 0 < 1
first_of_one = omega arith

-- An object is allocated, Keep is called, and leaves its master: the object that it has declared is taken out, and the Finalize of that is about to begin.
pub declaration_is_met : DeclarationIsMet
unfolding next expression_form stmt_form
declaration_is_met = (
  keeps,
  keeps_well,
  (
    [],
    _,
    _,
    there settled _ (refl, refl) (there settled _ (refl, refl) (there settled _ (refl, refl) (there settled _ (refl, refl) (there settled _ (refl, refl)
        (there settled _ (refl, refl) (there settled _ (refl, refl) (there (grants true) _ (refl, refl) (there settled _ (refl, refl)
        (there settled _ (refl, refl) (there settled _ (refl, refl) (there settled _ (refl, refl) (there settled _ (refl, refl)
        (there settled _ (refl, refl) (there settled _ (refl, refl) (there settled _ (refl, refl) (there settled _ (refl, refl)
        (there settled _ (refl, refl) (there settled _ (refl, refl) here)))))))))))))))))),
    (
      _,
      (first_of_one, refl, refl),
      (
        shuns,
        beside,
        first_ghost,
        none_unnamed,
        _,
        of_main,
        body_form keep_box,
        _,
        record {
          runs_beside = record {
            are_apart = keeps_apart;
            shaped = keeps_shaped;
            unused = keeps_unused;
            runs_on = record { procedure = 0; runs = refl; body = refl; steps = (_, refl) };
            shuns_all = refl;
            reaching = record {
              ghosts_there = first_there (program_form keeps).types (taken_box ∷ []) refl;
              are_ghosts = λ o is. absurd (cc);
              low = one_low of_main (first_near ∷ taken_box ∷ []) 0 first_near refl (omega arith);
              places = (refl, tt);
              operands = tt;
              upper = of_keep ∷ of_fill ∷ [];
              masters = refl;
              control = ((refl, (5, inl (refl, whole))), refl, (refl, refl, (refl, refl, left_shuns _ _)));
              jumps = tt;
              seeks = tt;
            };
            within = record { on = no_end _ refl _ _; houses = tt };
            ghost = record { 0 = 0 };
            is_ghost = refl;
          };
          declared = record { 0 = 1 };
          object = taken_box;
          is_there = refl;
          is_no_ghost = refl;
          may_be_declared = refl;
          master = of_keep;
          outer = _;
          innermost = refl;
          item = own_item;
          items = _;
          newest = refl;
          owns = refl;
          home = refl;
          of = _;
          part = _;
          tasks = _;
          later = _;
          is_next = refl;
          value = value;
          is_value = refl;
          is_alive = refl;
          tells = refl;
          finalize = 2;
          overrides = refl;
          may_be_called = refl;
          begins = refl;
          waits = refl;
          leaves = refl;
          was_reaching = record {
            ghosts_there = first_there (program_form keeps).types (present_box ∷ []) refl;
            are_ghosts = λ o is. absurd (cc);
            low = one_low of_main (first_near ∷ present_box ∷ []) 0 first_near refl (omega arith);
            places = (refl, tt);
            operands = tt;
            upper = of_keep ∷ of_fill ∷ [];
            masters = refl;
            control = left_shuns _ _;
            jumps = tt;
            seeks = tt;
          };
          was_within = record { on = no_end _ refl _ _; houses = λ o. houses_own o.0 };
        },
      ),
    ),
  ),
)
