-- A procedure calls another one, which copies a record over one of another object. It holds the name of an object of an access type that both bodies shun.

use Rattle.std.proofs.Common.{◌≡◌, ◌≢◌, ◌<◌, ◌≤◌, ◌⊎◌, ℕ, zero, suc, ◌+◌, Bool, false, true, ◌==◌, ◌||◌, List, [], ◌∷◌, ◌++◌, arith, refl, sym, ap, subst, inl, inr}
use Rattle.std.specs.Prelude.{Some, None, pos}
use Rattle.std.specs.List.{slice_get}
use Rattle.std.proofs.lemmas.Bool.{eqb-true, or_cases}
use Rattle.ada_values.specs.declared.value.Value.TheVariants as scalar
use Rattle.ada_program.specs.declared.program.Actual.TheVariants as actual
use Rattle.ada_program.specs.declared.program.Declaration.TheVariants as declaration
use Rattle.ada_program.specs.declared.program.Expression.{Integer}
use Rattle.ada_program.specs.declared.program.FormalMode.TheVariants as mode
use Rattle.ada_program.specs.declared.program.Item.TheVariants as item
use Rattle.ada_program.specs.declared.program.Path.{Path}
use Rattle.ada_program.specs.declared.program.Procedure.{Procedure}
use Rattle.ada_program.specs.declared.program.Program.{Program}
use Rattle.ada_program.specs.declared.program.RecordPath.{RecordPath}
use Rattle.ada_program.specs.declared.program.Right.TheVariants as right
use Rattle.ada_program.specs.declared.program.Stmt.{Stmt}
use Rattle.ada_program.specs.declared.program.Stmt as stmt
use Rattle.ada_program.specs.declared.program.TypeDefinition.TheVariants as definition
use Rattle.ada_program.specs.declared.program.VariableKind.TheVariants as variable
use Rattle.ada_program.specs.Form.{expression_form, stmt_form}
use Rattle.ada_program.specs.ProgramForm.{body_form, program_form}
use Rattle.ada_program.specs.WellFormed.{IsWellFormed}
use Rattle.ada_meaning.specs.declared.state.Id.{Id}
use Rattle.ada_meaning.specs.declared.state.Value.{Value}
use Rattle.ada_meaning.specs.declared.state.Value.TheVariants.{Names, Scalar}
use Rattle.ada_meaning.specs.Named.{Object, object_at, next}
use Rattle.ada_meaning.specs.Records.{component_at, IsCopied}
use Rattle.ada_meaning.specs.Run.{settled, grants, here, there}
use Rattle.ada_meaning.specs.State.{declared, record_object, Master}
use Rattle.ada_meaning.specs.Step.{owning}
use Rattle.ada_meaning.proofs.OperationExamples.{known_by}
use Rattle.ada_typed.proofs.Example.{vec, no_name, spot}
use Rattle.ada_reaching.specs.Deeds.{AreShaped, UseNone}
use Rattle.ada_reaching.specs.Law.{AreApart}
use Rattle.ada_reaching.specs.Reaching.{AreLow, IsOfShunned, IsDeclared, IsGhost}
use Rattle.ada_reaching.specs.Example.{CopyIsMet}
use Rattle.ada_reaching.proofs.ExampleParts.{types, near_path, far_path, variables, one_statement, fill, program, well_by, shuns, apart, calls_first, first_uses_none, link, near, one_low, of_main, of_first, holds_null, done_shun, no_end}

-- R and S, the formal parameters of Copy
abbrev formal_path : ℕ → Path
formal_path x = record { root = record { 0 = x }; selectors = vec [] (omega arith); of_record = true; spot = spot }

-- Z
abbrev more_path : Path
more_path = record { root = record { 0 = 2 }; selectors = vec [] (omega arith); of_record = false; spot = spot }

-- R, S, X.all and Z.all
abbrev link_at : Path → RecordPath
link_at path = record { object = path; first = record { 0 = 0 }; part = record { 0 = 0 }; «record» = record { 0 = 2 } }

-- procedure Copy (R : in out Link; S : Link) is begin R := S; end Copy;
abbrev copy : Procedure
copy =
    one_statement (vec (mode.InOut ∷ mode.In ∷ []) (omega arith)) (vec (known_by 4 ∷ known_by 5 ∷ []) (omega arith)) (vec [] (omega arith))
    (stmt.AssignRecord (link_at (formal_path 0)) (vec (item.Record (link_at (formal_path 1)) ∷ []) (omega arith)))

-- Copy (X.all, Z.all);
abbrev copies_z : Stmt
copies_z =
    stmt.Call (record { 0 = 0 })
    (vec (actual.InOutRecord (link_at far_path) ∷ actual.InRecord (link_at more_path) ∷ []) (omega arith))

-- procedure Fill is X : Far := new Link; Y : Near := new Cell; Z : Far := new Link'(Value => 7, Next => Y); begin Copy (X.all, Z.all); end Fill;
abbrev fill_more : Procedure
fill_more = record (fill copies_z) {
  variables = vec (variables ++ record { name = no_name; spot = spot; kind = variable.Access (record { 0 = 3 }); borrows = false } ∷ []) (omega arith);
  declarations =
      vec
      (declaration.Variable (record { 0 = 0 }) (Some (right.Default (record { 0 = 3 })))
      ∷ declaration.Variable (record { 0 = 1 }) (Some (right.Default (record { 0 = 1 })))
      ∷ declaration.Variable (record { 0 = 2 })
      (Some (right.Allocator (record { 0 = 3 }) (vec (item.Value (Integer (pos 7)) ∷ item.Path near_path ∷ []) (omega arith)))) ∷ []) (omega arith);
}

-- What calls Copy. Each of the record parameters is known by a type, and so is a record object of its own, W : Link;
abbrev copies : Program
copies = record (program copy copies_z) {
  types = vec (types ++ definition.Object (record { 0 = 2 }) ∷ definition.Object (record { 0 = 2 }) ∷ definition.Object (record { 0 = 2 }) ∷ []) (omega arith);
  procedures = vec (copy ∷ fill_more ∷ []) (omega arith);
  variables = vec (known_by 6 ∷ []) (omega arith);
  declarations =
      vec
      (declaration.Collection (record { 0 = 1 }) ∷ declaration.Collection (record { 0 = 3 })
      ∷ declaration.Record (record { 0 = 0 }) (record { 0 = 6 }) None ∷ [])
      (omega arith);
}

-- It is well formed,
copies_well : IsWellFormed (program_form copies)
unfolding expression_form stmt_form
copies_well = well_by (program_form copies) refl refl

-- and Copy shuns Near,
copy_apart : AreApart (program_form copies) copies.types.items shuns (apart copies.types.items)
unfolding stmt_form
copy_apart = calls_first (program_form copies) copies.types.items (body_form copy) refl shuns refl

-- is of that shape,
copy_shaped : AreShaped (program_form copies) copies.types.items (apart copies.types.items)
unfolding stmt_form
copy_shaped = calls_first (program_form copies) copies.types.items (body_form copy) refl (λ access. false) refl

-- follows no value of Near, and frees none.
copy_unused : UseNone (program_form copies) shuns (apart copies.types.items)
unfolding expression_form stmt_form
copy_unused = first_uses_none (program_form copies) copies.types.items refl refl

-- What Z.all holds,
abbrev held : List Value
held = Scalar (scalar.Integer (pos 7)) ∷ Names (record { 0 = 2 }) ∷ []

-- its object,
abbrev full_link : Object
full_link = record link { cell = record (link.cell) { number = 3; values = held } }

-- W,
abbrev declared_link : Object
declared_link = record link { cell = record (link.cell) { access = 6; number = 0; home = record { item = 2; pool = None; subpool = None } } }

-- and the objects before,
abbrev objects : List Object
objects = declared_link ∷ link ∷ near ∷ full_link ∷ []

-- and after the copy.
abbrev copied_objects : List Object
copied_objects = declared_link ∷ record link { cell = record (link.cell) { values = held } } ∷ near ∷ full_link ∷ []

-- W is a ghost that no value of Fill or Copy names.
abbrev unnamed : Id → Bool
unnamed o = o.0 == 0

-- The object of Near is a ghost here, too.
abbrev two_ghosts : Id → Bool
two_ghosts o = unnamed o || (o.0 == 2)

-- The one is declared, the other one is of a type that is to be shunned.
ghost_by :
    (n : ℕ) (b : Bool) → (n == 0) ≡ b → (b || (n == 2)) ≡ true → IsGhost (program_form copies).types shuns b (slice_get objects n)
ghost_by n true at is =
    subst (λ (i : ℕ). IsDeclared (program_form copies).types (slice_get objects i)) (sym (eqb-true n 0 at))
    (record { object = declared_link; there = refl; declared = refl })
ghost_by n false at is =
    subst (λ (i : ℕ). IsOfShunned (program_form copies).types shuns (slice_get objects i)) (sym (eqb-true n 2 is))
    (record { object = near; there = refl; shunned = refl; accessed = refl })

ghosts_among : (o : Id) → two_ghosts o ≡ true → IsGhost (program_form copies).types shuns (unnamed o) (object_at objects o)
ghosts_among o is = ghost_by o.0 (unnamed o) refl is

-- The main body owns W, too,
abbrev with_declared : List Master
with_declared = owning (record { number = 2; owned = record_object 6 }) of_main

-- and Fill owns Z.
abbrev of_more : Master
of_more = record {
  number = 1;
  items =
      record { number = 5; owned = declared 2 } ∷ record { number = 4; owned = declared 1 } ∷ record { number = 3; owned = declared 0 } ∷ [];
}

-- The home of each ghost is older than what Fill owns.
ghosts_low : AreLow two_ghosts with_declared objects
ghosts_low o x is = elim (or_cases (o.0 == 0) (o.0 == 2) is) [
  | inl first ↦ one_low with_declared objects 0 declared_link refl (omega arith) o x first
  | inr third ↦ one_low with_declared objects 2 near refl (omega arith) o x third
]

-- X and Z name two of the objects.
abbrev of_x : Id
of_x = record { 0 = 1 }

abbrev of_z : Id
of_z = record { 0 = 3 }

two_objects : of_z ≢ of_x
two_objects same =
    let numbers : 3 ≡ 1 = ap (λ (o : Id). o.0) same in
    absurd (omega (arith, numbers))

-- Both components of the one become those of the other.
both_alike : (i : ℕ) → i < 2 → component_at copied_objects of_x (0 + i) ≡ component_at objects of_z (0 + i)
both_alike i lt = refl

both_there : (i : ℕ) → i < 2 → component_at objects of_z (0 + i) ≢ None
both_there zero lt none = absurd (cc)
both_there (suc zero) lt none = absurd (cc)
both_there (suc (suc i)) lt none = absurd (omega (arith, lt))

-- There are no others.
none_else : (c : ℕ) → (c < 0) ⊎ (2 ≤ c) → component_at copied_objects of_x c ≡ component_at objects of_x c
none_else c (inl lt) = absurd (omega (arith, lt))
none_else zero (inr le) = absurd (omega (arith, le))
none_else (suc zero) (inr le) = absurd (omega (arith, le))
none_else (suc (suc c)) (inr le) = refl

-- The other objects stay.
others_stay : (n : ℕ) → n ≢ 1 → slice_get copied_objects n ≡ slice_get objects n
others_stay zero apart = refl
others_stay (suc zero) apart = absurd (apart refl)
others_stay (suc (suc n)) apart = refl

-- So the one is a copy of the other.
is_copied : IsCopied objects copied_objects of_z of_x 0 0 2
is_copied = record {
  alike = both_alike;
  whole = both_there;
  others = none_else;
  keeps = (link, held, refl, refl, refl);
  elsewhere = λ o apart. others_stay o.0 (λ same. apart (ap (λ (n : ℕ). record { 0 = n }) same));
  onto_itself = λ same at. absurd (two_objects same);
}

-- W is declared, three objects are allocated, Copy is called, and the record of the first one of these is about to be overwritten with that of
-- the third one.
pub copy_is_met : CopyIsMet
unfolding next expression_form stmt_form
copy_is_met = (
  copies,
  copies_well,
  (
    [],
    _,
    _,
    there settled _ (refl, refl) (there settled _ (refl, refl) (there settled _ (refl, refl) (there settled _ (refl, refl) (there settled _ (refl, refl)
        (there settled _ (refl, refl) (there settled _ (refl, refl) (there settled _ (refl, refl) (there (grants true) _ (refl, refl)
        (there settled _ (refl, refl) (there settled _ (refl, refl) (there settled _ (refl, refl) (there (grants true) _ (refl, refl)
        (there settled _ (refl, refl) (there settled _ (refl, refl) (there settled _ (refl, refl) (there settled _ (refl, refl) (there settled _ (refl, refl)
        (there settled _ (refl, refl) (there settled _ (refl, refl) (there (grants true) _ (refl, refl) (there settled _ (refl, refl)
        (there settled _ (refl, refl) (there settled _ (refl, refl) (there settled _ (refl, refl) (there settled _ (refl, refl) (there settled _ (refl, refl)
        (there settled _ (refl, refl) (there settled _ (refl, refl) (there settled _ (refl, refl) (there settled _ (refl, refl) (there settled _ (refl, refl)
        (there settled _ (refl, refl) (there settled _ (refl, refl) (there settled _ (refl, refl) here)))))))))))))))))))))))))))))))))),
    (
      shuns,
      apart copies.types.items,
      two_ghosts,
      unnamed,
      _,
      with_declared,
      body_form copy,
      _,
      record {
        stores_ghost = record {
          runs_beside = record {
            are_apart = copy_apart;
            shaped = copy_shaped;
            unused = copy_unused;
            runs_on = record { procedure = 0; runs = refl; body = refl; steps = (_, refl) };
            shuns_all = refl;
            reaching = record {
              ghosts_there = ghosts_among;
              are_ghosts = λ o is. ap (λ (b : Bool). b || (o.0 == 2)) is;
              low = ghosts_low;
              places = (refl, (refl, tt));
              operands = (refl, (tt, tt));
              upper = of_first ∷ of_more ∷ [];
              masters = refl;
              control = (
                refl,
                refl,
                done_shun (program_form copies) (apart copies.types.items) two_ghosts unnamed _ with_declared _ of_first of_more _ _ tt
                    ((tt, omega arith), ((tt, omega arith), ((tt, omega arith), tt))) (refl, (refl, (refl, tt))),
              );
              jumps = tt;
              seeks = λ x at. tt;
            };
            within = record { on = no_end _ refl _ _; houses = tt };
            ghost = record { 0 = 2 };
            is_ghost = refl;
          };
          holder = of_x;
          component = 1;
          holds_other = holds_null _;
          stores = refl;
        };
        declared = record { 0 = 0 };
        is_unnamed = refl;
        source = of_z;
        another = two_objects;
        first = 0;
        to = 0;
        record_type = 2;
        later = _;
        is_next = refl;
        copied = is_copied;
      },
    ),
  ),
)
