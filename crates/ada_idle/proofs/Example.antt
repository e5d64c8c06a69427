-- A program whose type overrides Adjust and Finalize, and which declares no object of the type; one that declares an object of it; and one that declares a copy, too.

use Rattle.std.proofs.Common.{◌≡◌, ℕ, ◌≤◌, false, true, List, [], ◌∷◌, length, arith, refl}
use Rattle.std.specs.Prelude.{Some, None, pos}
use Rattle.ada_program.specs.declared.program.ComponentKind.TheVariants as kind
use Rattle.ada_program.specs.declared.program.Declaration.{Declaration}
use Rattle.ada_program.specs.declared.program.Declaration.TheVariants as declaration
use Rattle.ada_program.specs.declared.program.Finalization.{Finalization}
use Rattle.ada_program.specs.declared.program.FormalMode.TheVariants.{InOut}
use Rattle.ada_program.specs.declared.program.Item.TheVariants as item
use Rattle.ada_program.specs.declared.program.Part.{Part}
use Rattle.ada_program.specs.declared.program.PartKind.TheVariants as part
use Rattle.ada_program.specs.declared.program.Procedure.{Procedure}
use Rattle.ada_program.specs.declared.program.Program.{Program}
use Rattle.ada_program.specs.declared.program.RecordPath.{RecordPath}
use Rattle.ada_program.specs.declared.program.Stmt as stmt
use Rattle.ada_program.specs.declared.program.TypeDefinition.{TypeDefinition}
use Rattle.ada_program.specs.declared.program.TypeDefinition.TheVariants as definition
use Rattle.ada_program.specs.declared.program.Variable.{Variable}
use Rattle.ada_program.specs.declared.program.VariableKind.TheVariants as variable
use Rattle.ada_program.specs.Form.{expression_form, stmt_form}
use Rattle.ada_program.specs.ProgramForm.{program_form}
use Rattle.ada_program.specs.WellFormed.{IsWellFormed}
use Rattle.ada_quiet.specs.Idle.{makes_parts, copies_parts}
use Rattle.ada_meaning.specs.Named.{next}
use Rattle.ada_meaning.specs.Run.{settled, here, there}
use Rattle.ada_typed.proofs.Example.{vec, no_name, spot, x_path}
use Rattle.ada_idle.specs.Example.{PremiseIsMet, PremiseIsNeeded, CopyPremiseIsMet, CopyPremiseIsNeeded, PremiseIsMetAndNeeded}

-- type Guard is new Controlled with record Level : Integer := 1; end record;
abbrev parts : List Part
parts =
    record { name = no_name; kind = part.Parent; first = record { 0 = 0 }; part = record { 0 = 0 } }
    ∷ record { name = no_name; kind = part.Elementary (kind.Integer (pos 1)); first = record { 0 = 0 }; part = record { 0 = 1 } }
    ∷ []

-- The procedures override Adjust and Finalize.
abbrev guard : Finalization
guard = record {
  number = record { 0 = 0 };
  parts = 1;
  limited = false;
  operations = record { initialize = None; adjust = Some (record { 0 = 0 }); finalize = Some (record { 0 = 1 }) };
}

-- Guard, what the formal parameters are known by, and what G and H are.
abbrev types : List TypeDefinition
types =
    definition.Record no_name (vec parts (omega arith)) (vec (kind.Integer (pos 1) ∷ []) (omega arith)) (Some guard)
    ∷ definition.Object (record { 0 = 0 })
    ∷ definition.Object (record { 0 = 0 })
    ∷ definition.Object (record { 0 = 0 })
    ∷ definition.Object (record { 0 = 0 })
    ∷ []

-- A formal parameter, or G, or H.
abbrev known_by : (object_type : ℕ) → Variable
known_by t = record { name = no_name; spot = spot; kind = variable.Record (record { 0 = t }); borrows = false }

-- overriding procedure Adjust (T : in out Guard) is begin null; end Adjust; and the same for Finalize.
abbrev does_nothing : (object_type : ℕ) → Procedure
does_nothing t = record {
  formals = vec (InOut ∷ []) (omega arith);
  variables = vec (known_by t ∷ []) (omega arith);
  declarations = vec [] (omega arith);
  statements = vec (stmt.Null ∷ []) (omega arith);
  handlers = vec [] (omega arith);
  start = spot;
  end = spot;
}

-- begin null; end; behind these declarations.
abbrev program_with : (variables : List Variable) → length variables ≤ 8 → (declarations : List Declaration) → length declarations ≤ 8 → Program
program_with variables few declarations some = record {
  types = vec types (omega arith);
  pools = vec [] (omega arith);
  procedures = vec (does_nothing 1 ∷ does_nothing 2 ∷ []) (omega arith);
  variables = vec variables few;
  texts = vec [] (omega arith);
  exceptions = vec [] (omega arith);
  declarations = vec declarations some;
  statements = vec (stmt.Null ∷ []) (omega arith);
  handlers = vec [] (omega arith);
}

-- Nothing is declared.
abbrev bare : Program
bare = program_with [] (omega arith) [] (omega arith)

-- G : Guard;
abbrev guarded : Program
guarded = program_with (known_by 3 ∷ []) (omega arith) (declaration.Record (record { 0 = 0 }) (record { 0 = 3 }) None ∷ []) (omega arith)

-- The record that G is.
abbrev original : RecordPath
original =
    record { object = record x_path { of_record = true }; first = record { 0 = 0 }; part = record { 0 = 0 }; «record» = record { 0 = 0 } }

-- G : Guard; H : Guard := G;
abbrev doubled : Program
doubled =
    program_with (known_by 3 ∷ known_by 4 ∷ []) (omega arith)
    (declaration.Record (record { 0 = 0 }) (record { 0 = 3 }) None
    ∷ declaration.Record (record { 0 = 1 }) (record { 0 = 4 }) (Some (vec (item.Record original ∷ []) (omega arith))) ∷ []) (omega arith)

bare_well_formed : IsWellFormed (program_form bare)
unfolding expression_form stmt_form
bare_well_formed = record {
  types_fit = refl;
  components_lie = refl;
  operations_fit = refl;
  pools_fit = refl;
  variables_fit = refl;
  creates_in_order = refl;
  collections_first = refl;
  collections_fit = refl;
  has_one_each = refl;
  initials_fit = refl;
  statements_fit = refl;
  handlers_fit = refl;
  bodies_fit = refl;
}

guarded_well_formed : IsWellFormed (program_form guarded)
unfolding expression_form stmt_form
guarded_well_formed = record {
  types_fit = refl;
  components_lie = refl;
  operations_fit = refl;
  pools_fit = refl;
  variables_fit = refl;
  creates_in_order = refl;
  collections_first = refl;
  collections_fit = refl;
  has_one_each = refl;
  initials_fit = refl;
  statements_fit = refl;
  handlers_fit = refl;
  bodies_fit = refl;
}

doubled_well_formed : IsWellFormed (program_form doubled)
unfolding expression_form stmt_form
doubled_well_formed = record {
  types_fit = refl;
  components_lie = refl;
  operations_fit = refl;
  pools_fit = refl;
  variables_fit = refl;
  creates_in_order = refl;
  collections_first = refl;
  collections_fit = refl;
  has_one_each = refl;
  initials_fit = refl;
  statements_fit = refl;
  handlers_fit = refl;
  bodies_fit = refl;
}

-- The one creates no object with controlled parts, the other does.
makes_none : makes_parts (program_form bare) ≡ false
unfolding expression_form stmt_form
makes_none = refl

makes_some : makes_parts (program_form guarded) ≡ true
unfolding expression_form stmt_form
makes_some = refl

-- This one copies none, the third one does.
copies_none : copies_parts (program_form guarded) ≡ false
unfolding expression_form stmt_form
copies_none = refl

copies_some : copies_parts (program_form doubled) ≡ true
unfolding expression_form stmt_form
copies_some = refl

-- No declaration is left, the statement is done and none is left behind it, its handlers are passed, and the main procedure comes to its end and is left.
is_met : PremiseIsMet
unfolding next expression_form stmt_form
is_met = (
  bare,
  bare_well_formed,
  refl,
  makes_none,
  (
    [],
    _,
    _,
    there settled _ (refl, refl) (there settled _ (refl, refl) (there settled _ (refl, refl) (there settled _ (refl, refl) (there settled _ (refl, refl)
        (there settled _ (refl, refl) here))))),
    refl,
  ),
)

-- G is created, and is to be initialized.
is_needed : PremiseIsNeeded
unfolding next expression_form stmt_form
is_needed = (guarded, guarded_well_formed, makes_some, ([], _, _, there settled _ (refl, refl) here, λ nothing. nothing))

-- G is to be initialized: that is no adjustment.
copy_is_met : CopyPremiseIsMet
unfolding next expression_form stmt_form
copy_is_met = (guarded, guarded_well_formed, refl, makes_some, copies_none, ([], _, _, there settled _ (refl, refl) here, λ nothing. nothing))

-- G is created, and comes to have a value. Its component is found and copied then; H gets it, and is to be adjusted.
copy_is_needed : CopyPremiseIsNeeded
unfolding next expression_form stmt_form
copy_is_needed = (
  doubled,
  doubled_well_formed,
  copies_some,
  (
    [],
    _,
    _,
    there settled _ (refl, refl) (there settled _ (refl, refl) (there settled _ (refl, refl) (there settled _ (refl, refl) (there settled _ (refl, refl)
        (there settled _ (refl, refl) (there settled _ (refl, refl) here)))))),
    λ nothing. absurd (cc (nothing.0)),
  ),
)

pub premise_met_and_needed : PremiseIsMetAndNeeded
premise_met_and_needed = (is_met, is_needed, copy_is_met, copy_is_needed)
