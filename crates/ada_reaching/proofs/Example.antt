-- A procedure calls another one, which assigns to a component of an object: the name of another one, of an access type that both bodies shun. Or it follows
-- that name.

use Rattle.std.proofs.Common.{◌≡◌, ◌≢◌, false, true, [], ◌∷◌, arith, refl, ap}
use Rattle.std.specs.Prelude.{Option, Some, pos}
use Rattle.std.specs.List.{slice_get}
use Rattle.ada_values.specs.declared.value.Value.TheVariants as scalar
use Rattle.ada_program.specs.declared.program.Actual.TheVariants as actual
use Rattle.ada_program.specs.declared.program.Expression.{Integer}
use Rattle.ada_program.specs.declared.program.FormalMode.TheVariants as mode
use Rattle.ada_program.specs.declared.program.Path.{Path}
use Rattle.ada_program.specs.declared.program.Procedure.{Procedure}
use Rattle.ada_program.specs.declared.program.Program.{Program}
use Rattle.ada_program.specs.declared.program.Right.TheVariants as right
use Rattle.ada_program.specs.declared.program.Stmt.{Stmt}
use Rattle.ada_program.specs.declared.program.Stmt as stmt
use Rattle.ada_program.specs.Form.{expression_form, stmt_form}
use Rattle.ada_program.specs.ProgramForm.{body_form, program_form}
use Rattle.ada_program.specs.WellFormed.{IsWellFormed}
use Rattle.ada_meaning.specs.declared.state.Id.{Id}
use Rattle.ada_meaning.specs.declared.state.Value.TheVariants.{Scalar}
use Rattle.ada_meaning.specs.Named.{Object, next}
use Rattle.ada_meaning.specs.Records.{component_in}
use Rattle.ada_meaning.specs.Run.{settled, grants, here, there}
use Rattle.ada_typed.proofs.Example.{vec, spot}
use Rattle.ada_reaching.specs.Deeds.{AreShaped, UseNone}
use Rattle.ada_reaching.specs.Law.{AreApart}
use Rattle.ada_reaching.specs.Reaching.{IsOfShunned, none_unnamed}
use Rattle.ada_reaching.specs.Example.{PremiseIsMet, PremiseIsNeeded}
use Rattle.ada_reaching.proofs.ExampleParts.{types, near_path, far_path, variables, one_statement, fill, program, well_by, shuns, apart, calls_first, first_uses_none, link, near, ghosts, second_there, one_low, of_main, of_fill, of_first, holds_null, done_shun, no_end}

-- L.Next, the component of a formal parameter
abbrev next_path : Path
next_path = record { root = record { 0 = 0 }; selectors = vec (record { 0 = 1 } ∷ []) (omega arith); of_record = false; spot = spot }

-- Y.Value
abbrev value_path : Path
value_path = record { root = record { 0 = 1 }; selectors = vec (record { 0 = 0 } ∷ []) (omega arith); of_record = false; spot = spot }

-- procedure Join (L : Far; N : Near) is begin L.Next := N; end Join;
abbrev join : Procedure
join =
    one_statement (vec (mode.In ∷ mode.In ∷ []) (omega arith)) (vec variables (omega arith)) (vec [] (omega arith))
    (stmt.Assign next_path (right.Path near_path))

-- Join (X, Y);
abbrev joins : Stmt
joins = stmt.Call (record { 0 = 0 }) (vec (actual.InAccess far_path ∷ actual.InAccess near_path ∷ []) (omega arith))

-- Y.Value := 7;
abbrev sets : Stmt
sets = stmt.Assign value_path (right.Value (Integer (pos 7)))

-- What calls Join,
abbrev stores : Program
stores = program join joins

-- and what follows the name of a Cell.
abbrev follows : Program
follows = program join sets

-- Both are well formed:
stores_well : IsWellFormed (program_form stores)
unfolding expression_form stmt_form
stores_well = well_by (program_form stores) refl refl

-- so is the other one.
follows_well : IsWellFormed (program_form follows)
unfolding expression_form stmt_form
follows_well = well_by (program_form follows) refl refl

-- All that Fill calls shuns Near,
are_apart : AreApart (program_form stores) types shuns (apart types)
unfolding stmt_form
are_apart = calls_first (program_form stores) types (body_form join) refl shuns refl

-- is of that shape,
shaped : AreShaped (program_form stores) types (apart types)
unfolding stmt_form
shaped = calls_first (program_form stores) types (body_form join) refl (λ access. false) refl

-- follows no value of Near, and frees none.
unused : UseNone (program_form stores) shuns (apart types)
unfolding expression_form stmt_form
unused = first_uses_none (program_form stores) types refl refl

-- The ghost is of a type that is to be shunned.
ghosts_there : (o : Id) → ghosts o ≡ true → IsOfShunned (program_form stores).types shuns (slice_get (link ∷ near ∷ []) o.0)
ghosts_there = second_there (program_form stores).types link refl

-- The Integer of the ghost changes.
changes : Some (record near { cell = record (near.cell) { values = Scalar (scalar.Integer (pos 7)) ∷ [] } }) ≢ Some near
changes same =
    let own : Some (Scalar (scalar.Integer (pos 7))) ≡ Some (Scalar (scalar.Integer (pos 0))) = ap (λ (found : Option Object). component_in found 0) same in
    absurd (cc own)

-- To look at it is to look at a ghost.
never : true ≡ false → ⊥
never same = absurd (cc)

-- The collections are created, Fill is called, both objects are allocated, Join is called, and the first object is about to get the name of the second one.
pub premise_is_met : PremiseIsMet
unfolding next expression_form stmt_form
premise_is_met = (
  stores,
  stores_well,
  (
    [],
    _,
    _,
    there settled _ (refl, refl) (there settled _ (refl, refl) (there settled _ (refl, refl) (there settled _ (refl, refl) (there settled _ (refl, refl)
        (there settled _ (refl, refl) (there settled _ (refl, refl) (there (grants true) _ (refl, refl) (there settled _ (refl, refl)
        (there settled _ (refl, refl) (there settled _ (refl, refl) (there (grants true) _ (refl, refl) (there settled _ (refl, refl)
        (there settled _ (refl, refl) (there settled _ (refl, refl) (there settled _ (refl, refl) (there settled _ (refl, refl) (there settled _ (refl, refl)
        (there settled _ (refl, refl) (there settled _ (refl, refl) (there settled _ (refl, refl) (there settled _ (refl, refl) here))))))))))))))))))))),
    (
      shuns,
      apart types,
      ghosts,
      none_unnamed,
      _,
      of_main,
      body_form join,
      _,
      record {
        runs_beside = record {
          are_apart = are_apart;
          shaped = shaped;
          unused = unused;
          runs_on = record { procedure = 0; runs = refl; body = refl; steps = (_, refl) };
          shuns_all = refl;
          reaching = record {
            ghosts_there = ghosts_there;
            are_ghosts = λ o is. absurd (cc);
            low = one_low of_main (link ∷ near ∷ []) 1 near refl (omega arith);
            places = (refl, (refl, tt));
            operands = (refl, tt);
            upper = of_first ∷ of_fill ∷ [];
            masters = refl;
            control = (
              refl,
              refl,
              done_shun (program_form stores) (apart types) ghosts none_unnamed _ of_main _ of_first of_fill _ _ tt
                  ((tt, omega arith), ((tt, omega arith), tt)) (refl, (refl, tt)),
            );
            jumps = tt;
            seeks = λ x at. tt;
          };
          within = record { on = no_end _ refl _ _; houses = tt };
          ghost = record { 0 = 1 };
          is_ghost = refl;
        };
        holder = record { 0 = 0 };
        component = 1;
        holds_other = holds_null _;
        stores = refl;
      },
    ),
  ),
)

-- So it is where the Integer of the second object is about to get the 7.
pub premise_is_needed : PremiseIsNeeded
unfolding next expression_form stmt_form
premise_is_needed = (
  follows,
  follows_well,
  (
    [],
    _,
    _,
    there settled _ (refl, refl) (there settled _ (refl, refl) (there settled _ (refl, refl) (there settled _ (refl, refl) (there settled _ (refl, refl)
        (there settled _ (refl, refl) (there settled _ (refl, refl) (there (grants true) _ (refl, refl) (there settled _ (refl, refl)
        (there settled _ (refl, refl) (there settled _ (refl, refl) (there (grants true) _ (refl, refl) (there settled _ (refl, refl)
        (there settled _ (refl, refl) (there settled _ (refl, refl) (there settled _ (refl, refl) (there settled _ (refl, refl)
        (there settled _ (refl, refl) here))))))))))))))))),
    (
      shuns,
      apart types,
      ghosts,
      body_form (fill sets),
      _,
      record {
        runs_on = record { procedure = 1; runs = refl; body = refl; steps = (_, refl) };
        shuns_not_all = refl;
        ghosts_there = ghosts_there;
        looks = never;
        ghost = record { 0 = 1 };
        is_ghost = refl;
        changes = changes;
      },
    ),
  ),
)
