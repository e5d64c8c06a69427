-- A procedure calls another one, which declares a record object as a copy of a record that holds the name of an object of an access type that both bodies shun.

use Rattle.std.proofs.Common.{ℕ, Bool, false, true, List, [], ◌∷◌, ◌++◌, arith, refl}
use Rattle.std.specs.Prelude.{Some, None, pos}
use Rattle.ada_values.specs.declared.value.Value.TheVariants as scalar
use Rattle.ada_program.specs.declared.program.Actual.TheVariants as actual
use Rattle.ada_program.specs.declared.program.Declaration.TheVariants as declaration
use Rattle.ada_program.specs.declared.program.Expression.{Integer}
use Rattle.ada_program.specs.declared.program.FormalMode.TheVariants as mode
use Rattle.ada_program.specs.declared.program.Item.TheVariants as item
use Rattle.ada_program.specs.declared.program.Path.{Path}
use Rattle.ada_program.specs.declared.program.Procedure.{Procedure}
use Rattle.ada_program.specs.declared.program.Program.{Program}
use Rattle.ada_program.specs.declared.program.RecordPath.{RecordPath}
use Rattle.ada_program.specs.declared.program.Right.TheVariants as right
use Rattle.ada_program.specs.declared.program.Stmt as stmt
use Rattle.ada_program.specs.declared.program.TypeDefinition.{TypeDefinition}
use Rattle.ada_program.specs.declared.program.TypeDefinition.TheVariants as definition
use Rattle.ada_program.specs.declared.program.VariableKind.TheVariants as variable
use Rattle.ada_program.specs.Form.{expression_form, stmt_form}
use Rattle.ada_program.specs.ProgramForm.{body_form, program_form}
use Rattle.ada_program.specs.WellFormed.{IsWellFormed}
use Rattle.ada_meaning.specs.declared.state.Value.TheVariants.{Names, Scalar}
use Rattle.ada_meaning.specs.Named.{Object, next}
use Rattle.ada_meaning.specs.Run.{settled, grants, here, there}
use Rattle.ada_meaning.proofs.OperationExamples.{known_by}
use Rattle.ada_typed.proofs.Example.{vec, no_name, spot}
use Rattle.ada_reaching.specs.Deeds.{AreShaped, UseNone}
use Rattle.ada_reaching.specs.Law.{AreApart}
use Rattle.ada_reaching.specs.Reaching.{none_unnamed}
use Rattle.ada_reaching.specs.Example.{CopiedDeclarationIsMet}
use Rattle.ada_reaching.proofs.ExampleParts.{types, one_statement, program, well_by, shuns, apart, calls_first, first_uses_none, link, first_near, first_ghost, first_there, one_low, of_main, of_fill, of_first, end_shuns, no_end}

-- Y, and what it names; Z; and S, the formal parameter of Keep
abbrev path_of : (variable : ℕ) → (of_record : Bool) → Path
path_of x of_record = record { root = record { 0 = x }; selectors = vec [] (omega arith); of_record = of_record; spot = spot }

-- Z.all, and S
abbrev link_at : Path → RecordPath
link_at path = record { object = path; first = record { 0 = 0 }; part = record { 0 = 0 }; «record» = record { 0 = 2 } }

-- procedure Keep (S : Link) is R : Link := S; begin null; end Keep;
abbrev keep_copy : Procedure
keep_copy =
    one_statement (vec (mode.In ∷ []) (omega arith)) (vec (known_by 4 ∷ known_by 5 ∷ []) (omega arith))
    (vec
    (declaration.Record (record { 0 = 1 }) (record { 0 = 5 }) (Some (vec (item.Record (link_at (path_of 0 true)) ∷ []) (omega arith))) ∷ [])
    (omega arith)) stmt.Null

-- procedure Fill is Y : Near := new Cell; Z : Far := new Link'(Value => 7, Next => Y); begin Keep (Z.all); end Fill;
abbrev fill_link : Procedure
fill_link =
    one_statement (vec [] (omega arith))
    (vec
    (record { name = no_name; spot = spot; kind = variable.Access (record { 0 = 1 }); borrows = false }
    ∷ record { name = no_name; spot = spot; kind = variable.Access (record { 0 = 3 }); borrows = false } ∷ []) (omega arith))
    (vec
    (declaration.Variable (record { 0 = 0 }) (Some (right.Default (record { 0 = 1 })))
    ∷ declaration.Variable (record { 0 = 1 })
    (Some (right.Allocator (record { 0 = 3 }) (vec (item.Value (Integer (pos 7)) ∷ item.Path (path_of 0 false) ∷ []) (omega arith)))) ∷ []) (omega arith))
    (stmt.Call (record { 0 = 0 }) (vec (actual.InRecord (link_at (path_of 1 false)) ∷ []) (omega arith)))

-- What S and R are known by, too.
abbrev copy_types : List TypeDefinition
copy_types = types ++ definition.Object (record { 0 = 2 }) ∷ definition.Object (record { 0 = 2 }) ∷ []

-- begin Fill; end;
abbrev keeps : Program
keeps = record (program keep_copy stmt.Null) {
  types = vec copy_types (omega arith);
  procedures = vec (keep_copy ∷ fill_link ∷ []) (omega arith);
}

-- It is well formed,
keeps_well : IsWellFormed (program_form keeps)
unfolding expression_form stmt_form
keeps_well = well_by (program_form keeps) refl refl

-- and Keep shuns Near,
keeps_apart : AreApart (program_form keeps) copy_types shuns (apart copy_types)
unfolding stmt_form
keeps_apart = calls_first (program_form keeps) copy_types (body_form keep_copy) refl shuns refl

-- is of that shape,
keeps_shaped : AreShaped (program_form keeps) copy_types (apart copy_types)
unfolding stmt_form
keeps_shaped = calls_first (program_form keeps) copy_types (body_form keep_copy) refl (λ access. false) refl

-- follows no value of Near, and frees none.
keeps_unused : UseNone (program_form keeps) shuns (apart copy_types)
unfolding expression_form stmt_form
keeps_unused = first_uses_none (program_form keeps) copy_types refl refl

-- The object that Z names, which holds the name of the one that Y does,
abbrev full_link : Object
full_link = record link { cell = record (link.cell) { number = 2; values = Scalar (scalar.Integer (pos 7)) ∷ Names (record { 0 = 0 }) ∷ [] } }

-- and its copy, R.
abbrev copied_link : Object
copied_link = record full_link { cell = record (full_link.cell) { access = 5; number = 0; home = record { item = 4; pool = None; subpool = None } } }

-- Two objects are allocated, Keep is called, what R is to hold has been read, and R is about to be there.
pub copied_declaration_is_met : CopiedDeclarationIsMet
unfolding next expression_form stmt_form
copied_declaration_is_met = (
  keeps,
  keeps_well,
  (
    [],
    _,
    _,
    there settled _ (refl, refl) (there settled _ (refl, refl) (there settled _ (refl, refl) (there settled _ (refl, refl) (there settled _ (refl, refl)
        (there settled _ (refl, refl) (there settled _ (refl, refl) (there (grants true) _ (refl, refl) (there settled _ (refl, refl)
        (there settled _ (refl, refl) (there settled _ (refl, refl) (there settled _ (refl, refl) (there settled _ (refl, refl) (there settled _ (refl, refl)
        (there settled _ (refl, refl) (there (grants true) _ (refl, refl) (there settled _ (refl, refl) (there settled _ (refl, refl)
        (there settled _ (refl, refl) (there settled _ (refl, refl) (there settled _ (refl, refl) (there settled _ (refl, refl) (there settled _ (refl, refl)
        (there settled _ (refl, refl) (there settled _ (refl, refl) (there settled _ (refl, refl) here))))))))))))))))))))))))),
    (
      shuns,
      apart copy_types,
      first_ghost,
      none_unnamed,
      _,
      of_main,
      body_form keep_copy,
      _,
      record {
        runs_beside = record {
          are_apart = keeps_apart;
          shaped = keeps_shaped;
          unused = keeps_unused;
          runs_on = record { procedure = 0; runs = refl; body = refl; steps = (_, refl) };
          shuns_all = refl;
          reaching = record {
            ghosts_there = first_there (program_form keeps).types (full_link ∷ []) refl;
            are_ghosts = λ o is. absurd (cc);
            low = one_low of_main (first_near ∷ full_link ∷ []) 0 first_near refl (omega arith);
            places = (refl, (tt, tt));
            operands = (refl, (tt, tt));
            upper = of_first ∷ of_fill ∷ [];
            masters = refl;
            control = (
              refl,
              refl,
              (
                refl,
                refl,
                (
                  tt,
                  end_shuns (program_form keeps) (apart copy_types) first_ghost none_unnamed _ of_main _ of_fill _ _ ((tt, omega arith), ((tt, omega arith), tt))
                      (refl, (refl, tt)),
                ),
              ),
            );
            jumps = tt;
            seeks = λ x at. tt;
          };
          within = record { on = no_end _ refl _ _; houses = tt };
          ghost = record { 0 = 0 };
          is_ghost = refl;
        };
        variable = 1;
        object_type = 5;
        later = _;
        is_next = refl;
        not_by_default = refl;
        created = record { 0 = 2 };
        object = copied_link;
        is_new = refl;
        is_there = refl;
        known_by = refl;
        component = 1;
        names_ghost = refl;
        owns = refl;
      },
    ),
  ),
)
