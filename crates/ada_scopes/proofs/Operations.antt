-- The operations of a program's types, as the machine finds them by the number of a type, nest where they are called.

use Rattle.std.proofs.Common.{◌≡◌, ℕ, zero, suc, ◌&&◌, Bool, true, false, if◌then◌else◌, List, [], ◌∷◌, map, Option, Some, None, refl, subst}
use Rattle.std.specs.Prelude.{find}
use Rattle.std.specs.List.{slice_get, list_all}
use Rattle.ada_program.specs.declared.program.Finalization.{Finalization}
use Rattle.ada_program.specs.declared.program.Operations.{Operations}
use Rattle.ada_program.specs.declared.program.ProcedureNo.{ProcedureNo}
use Rattle.ada_program.specs.declared.program.TypeDefinition.{TypeDefinition}
use Rattle.ada_program.specs.declared.program.TypeDefinition.TheVariants as definition
use Rattle.ada_program.specs.Controlled.{number_by, is_number, operations_in, operations_by, operations_of}
use Rattle.ada_program.specs.Nested.{Callees, callees_of, collected, is_one_of}
use Rattle.ada_program.specs.ProgramForm.{TypeForm, ProgramForm, type_form}
use Rattle.ada_program.specs.WellFormed.{finalization_in, finalization_of, is_access, is_inherited, overrides_nothing, overrides_none}
use Rattle.ada_scopes.specs.Scopes.{NestsWhereOpen, AllNestWhereOpen, NestsAnywhere, AllNestAnywhere, OperationsNest, OperationsFindOpen, OperationsNestAnywhere}
use Rattle.ada_scopes.proofs.Counts.{and_left, and_right}

-- What a type overrides stands in the program's form.
same_operations : (types : List TypeDefinition) (i : ℕ) → operations_in (finalization_of (map type_form types) i) ≡ operations_by (slice_get types i)
same_operations [] i = refl
same_operations (definition.Record name parts components finalization ∷ types) zero = refl
same_operations (definition.Access name designated pool ∷ types) zero = refl
same_operations (definition.Object record_type ∷ types) zero = refl
same_operations (t ∷ types) (suc i) = same_operations types i

-- What holds of each of some types holds of the first that is found.
found_here : (P : Operations → Type 0) (passes : Bool) (t : TypeDefinition) (found : Option TypeDefinition) → P (operations_by (Some t)) → P (operations_by found) → P (operations_by (if passes then Some t else found))
found_here P true t found here later = here
found_here P false t found here later = later

found_so : (P : Operations → Type 0) (test : TypeDefinition → Bool) (types : List TypeDefinition) → ((i : ℕ) → P (operations_by (slice_get types i))) → P (operations_by (find test types))
found_so P test [] all = all 0
found_so P test (t ∷ types) all = found_here P (test t) t (find test types) (all 0) (found_so P test types (λ i. all (suc i)))

-- What holds of what each type overrides holds of what is found by the number of a type.
pub operations_so : (P : Operations → Type 0) (types : List TypeDefinition) (n : ℕ) → ((t : ℕ) → P (operations_in (finalization_of (map type_form types) t))) → P (operations_of types n)
operations_so P types n all = found_so P (λ t. is_number n (number_by (Some t))) types (λ i. subst P (same_operations types i) (all i))

-- Those that nest anywhere.
pub operations_here : (callees : Callees) (types : List TypeDefinition) (n : ℕ) → ((t : ℕ) → AllNestAnywhere callees (operations_in (finalization_of (map type_form types) t))) → AllNestAnywhere callees (operations_of types n)
operations_here callees types n all =
    found_so (AllNestAnywhere callees) (λ t. is_number n (number_by (Some t))) types
    (λ i. subst (λ (o : Operations). AllNestAnywhere callees o) (same_operations types i) (all i))

-- Those that nest where these collections are open.
pub operations_where_open : (opened : ℕ → Bool) (callees : Callees) (types : List TypeDefinition) (n : ℕ) → ((t : ℕ) → AllNestWhereOpen opened callees (operations_in (finalization_of (map type_form types) t))) → AllNestWhereOpen opened callees (operations_of types n)
operations_where_open opened callees types n all =
    found_so (AllNestWhereOpen opened callees) (λ t. is_number n (number_by (Some t))) types
    (λ i. subst (λ (o : Operations). AllNestWhereOpen opened callees o) (same_operations types i) (all i))

-- Operations that nest anywhere do so where some collections are open.
where_open : (opened : ℕ → Bool) (callees : Callees) (o : Option ProcedureNo) → NestsAnywhere callees o → NestsWhereOpen opened callees o
where_open opened callees None nests = tt
where_open opened callees (Some procedure) nests = λ around open_there. nests around

all_where_open : (opened : ℕ → Bool) (p : ProgramForm) → OperationsNestAnywhere p → (t : ℕ) → AllNestWhereOpen opened (callees_of p) (operations_in (finalization_of p.types t))
all_where_open opened p all t = (
  where_open opened (callees_of p) (operations_in (finalization_of p.types t)).initialize (all t).0,
  where_open opened (callees_of p) (operations_in (finalization_of p.types t)).adjust (all t).1,
  where_open opened (callees_of p) (operations_in (finalization_of p.types t)).finalize (all t).2,
)

pub anywhere_nests : (p : ProgramForm) → OperationsNestAnywhere p → OperationsNest p
anywhere_nests p all = all_where_open (is_access p.types) p all

pub anywhere_open : (p : ProgramForm) → OperationsNestAnywhere p → OperationsFindOpen p
anywhere_open p all = all_where_open (is_one_of (collected p.declarations)) p all

-- Where no type overrides an operation, all do.
inherits : (callees : Callees) (o : Option ProcedureNo) → is_inherited o ≡ true → NestsAnywhere callees o
inherits callees None is = tt
inherits callees (Some procedure) is = absurd (cc is)

overrides_no : (callees : Callees) (f : Option Finalization) → overrides_nothing f ≡ true → AllNestAnywhere callees (operations_in f)
overrides_no callees None is = (tt, tt, tt)
overrides_no callees (Some f) is =
    let o = f.operations in
    let front = and_left (is_inherited o.initialize && is_inherited o.adjust) (is_inherited o.finalize) is in (
      inherits callees o.initialize (and_left (is_inherited o.initialize) (is_inherited o.adjust) front),
      inherits callees o.adjust (and_right (is_inherited o.initialize) (is_inherited o.adjust) front),
      inherits callees o.finalize (and_right (is_inherited o.initialize && is_inherited o.adjust) (is_inherited o.finalize) is),
    )

none_overridden : (callees : Callees) (types : List TypeForm) (t : ℕ) → list_all (λ u. overrides_nothing (finalization_in (Some u))) types ≡ true → AllNestAnywhere callees (operations_in (finalization_of types t))
none_overridden callees [] t is = (tt, tt, tt)
none_overridden callees (u ∷ types) zero is =
    overrides_no callees (finalization_in (Some u)) (and_left (overrides_nothing (finalization_in (Some u))) (list_all (λ v. overrides_nothing (finalization_in (Some v))) types) is)
none_overridden callees (u ∷ types) (suc t) is =
    none_overridden callees types t (and_right (overrides_nothing (finalization_in (Some u))) (list_all (λ v. overrides_nothing (finalization_in (Some v))) types) is)

pub none_nests : (p : ProgramForm) → overrides_none p ≡ true → OperationsNest p
none_nests p is = anywhere_nests p (λ t. none_overridden (callees_of p) p.types t is)

pub none_open : (p : ProgramForm) → overrides_none p ≡ true → OperationsFindOpen p
none_open p is = anywhere_open p (λ t. none_overridden (callees_of p) p.types t is)
