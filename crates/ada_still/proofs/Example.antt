-- A Finalize declares an access type, and allocates an object of it; and one declares an object of its own type besides.

use Rattle.std.proofs.Common.{◌≡◌, inr, ℕ, zero, suc, ◌==◌, ◌&&◌, ◌||◌, Bool, true, false, List, [], ◌∷◌, ◌++◌, map, refl, ap, arith, subst, sym, ◌∙◌}
use Rattle.std.specs.Prelude.{None, Some, pos}
use Rattle.std.specs.List.{slice_get, slice_index_or, list_all}
use Rattle.ada_program.specs.declared.program.ComponentKind.TheVariants as kind
use Rattle.ada_program.specs.declared.program.Declaration.TheVariants as declaration
use Rattle.ada_program.specs.declared.program.FormalMode.TheVariants.{InOut}
use Rattle.ada_program.specs.declared.program.Operations.{Operations}
use Rattle.ada_program.specs.declared.program.PartKind.TheVariants as part
use Rattle.ada_program.specs.declared.program.Program.{Program}
use Rattle.ada_program.specs.declared.program.Right.TheVariants as right
use Rattle.ada_program.specs.declared.program.Stmt as stmt
use Rattle.ada_program.specs.declared.program.TypeDefinition.{TypeDefinition}
use Rattle.ada_program.specs.declared.program.TypeDefinition.TheVariants as definition
use Rattle.ada_program.specs.declared.program.Variable.{Variable}
use Rattle.ada_program.specs.declared.program.VariableKind.TheVariants as variable
use Rattle.ada_program.specs.Form.{expression_form, stmt_form, skips, allocates_default, collects, declares, declares_record, DeclarationForm, StmtsForm, no_stmts, a_stmt, no_handlers, stmt_forms, statement_rules}
use Rattle.ada_program.specs.Freed.{statements_free_own, body_frees_own, FreesItsOwn}
use Rattle.ada_program.specs.Controlled.{operations_in}
use Rattle.ada_program.specs.Nested.{Callees, call_nests, callees_from, collected, is_one_of, statements_nest, CollectionsNest}
use Rattle.ada_program.specs.ProgramForm.{BodyForm, ProgramForm, variable_form, body_forms, program_form}
use Rattle.ada_program.specs.WellFormed.{reached_components, finalization_of, IsWellFormed, created_in_all, creates_from, has_collections, profile_of, have_operations, bodies_fit, stmts_fit}
use Rattle.ada_meaning.specs.declared.event.Halt.TheVariants.{Finished}
use Rattle.ada_meaning.specs.declared.state.Value.{Value}
use Rattle.ada_meaning.specs.Frame.{Frame}
use Rattle.ada_meaning.specs.State.{Owned, declared, collection, record_object, storage_pool, Item, Master}
use Rattle.ada_meaning.specs.Named.{next}
use Rattle.ada_meaning.specs.Run.{Halts, grants, takes}
use Rattle.ada_order.specs.Example.{InSomeRun}
use Rattle.ada_order.proofs.Choices.{run_by}
use Rattle.ada_scopes.proofs.RecursionExample as recurring
use Rattle.ada_scopes.proofs.Example.{steps, vec, no_name, cell_of, access_to, creations_with, no_pools}
use Rattle.ada_still.specs.Still.{stmts_keep, bounds_without, still_from, CollectStill}
use Rattle.ada_still.specs.Beside.{IsWithout, are_other_kinds, AllNestBeside, NestBeside}
use Rattle.ada_still.specs.Law.{IsOther, AreOther, is_treatment, TreatsWhereNoneIsOpen, TreatsElsewhere}
use Rattle.ada_still.specs.Text.{nest_by_text, still_by_text, own_of_operations}
use Rattle.ada_still.specs.Example.{AllocatesInOperation, PremiseIsMet, TextSaysSo, PremiseIsNeeded}

-- The access type that the Finalize declares.
abbrev near : ℕ → Bool
near t = t == 1

abbrev operations : Operations
operations = record { initialize = None; adjust = None; finalize = Some (record { 0 = 0 }) }

-- type Link is new Ada.Finalization.Controlled with null record;
abbrev link : TypeDefinition
link =
    definition.Record no_name (vec (record { name = no_name; kind = part.Parent; first = record { 0 = 0 }; part = record { 0 = 0 } } ∷ []) (omega arith)) (vec [] (omega arith))
    (Some (record { number = record { 0 = 0 }; parts = 1; limited = false; operations = operations }))

-- An object that is known by a type, and a variable of the access type.
abbrev known_by : ℕ → Variable
known_by t = record { name = no_name; spot = record { line = 1; column = 1 }; kind = variable.Record (record { 0 = t }); borrows = false }

abbrev of_near : Variable
of_near = record { name = no_name; spot = record { line = 1; column = 1 }; kind = variable.Access (record { 0 = 1 }); borrows = false }

-- type Cell is record Value : Integer; end record; type Link is new Ada.Finalization.Controlled with null record;
-- procedure Finalize (Object : in out Link) is type Near is access Cell; Y : Near := new Cell; begin null; end; X : Link; begin null; end;
abbrev program : Program
program = record {
  types = vec
      (cell_of (kind.Integer (pos 0) ∷ []) (omega arith) (omega arith) ∷ access_to 0 ∷ link ∷ definition.Object (record { 0 = 2 }) ∷ definition.Object (record { 0 = 2 }) ∷ [])
      (omega arith);
  pools = vec [] (omega arith);
  procedures = vec (record {
    formals = vec (InOut ∷ []) (omega arith);
    variables = vec (known_by 4 ∷ of_near ∷ []) (omega arith);
    declarations = vec
        (declaration.Collection (record { 0 = 1 }) ∷ declaration.Variable (record { 0 = 1 }) (Some (right.Default (record { 0 = 1 }))) ∷ []) (omega arith);
    statements = vec (stmt.Null ∷ []) (omega arith);
    handlers = vec [] (omega arith);
    start = record { line = 1; column = 1 };
    end = record { line = 1; column = 1 };
  } ∷ []) (omega arith);
  variables = vec (known_by 3 ∷ []) (omega arith);
  texts = vec [] (omega arith);
  exceptions = vec [] (omega arith);
  declarations = vec (declaration.Record (record { 0 = 0 }) (record { 0 = 3 }) None ∷ []) (omega arith);
  statements = vec (stmt.Null ∷ []) (omega arith);
  handlers = vec [] (omega arith);
}

abbrev forms : StmtsForm
forms = a_stmt skips no_stmts

-- The body of such a Finalize, with these variables and declarations.
abbrev finalizes : List Variable → List DeclarationForm → BodyForm
finalizes variables declarations = record {
  formals = InOut ∷ [];
  variables = map variable_form variables;
  declarations = declarations;
  statements = a_stmt skips no_stmts;
  handlers = no_handlers;
  start_spot = record { line = 1; column = 1 };
  end_spot = record { line = 1; column = 1 };
}

abbrev bodies : List BodyForm
bodies = finalizes (known_by 4 ∷ of_near ∷ []) (collects 1 ∷ declares 1 (allocates_default 1) ∷ []) ∷ []

forms_are : stmt_forms program ≡ forms
forms_are = simp statement_rules

bodies_are : body_forms program ≡ bodies
bodies_are = simp statement_rules

-- What holds of these bodies and statements holds of the program.
of_both : (test : List BodyForm → StmtsForm → Bool) → test bodies forms ≡ true → test (body_forms program) (stmt_forms program) ≡ true
of_both test is = rw (bodies_are, forms_are) is

well_formed : IsWellFormed (program_form program)
well_formed = record {
  types_fit = refl;
  components_lie = refl;
  operations_fit = of_both (λ bs fs. have_operations (program_form program).types (map profile_of bs) 0 (program_form program).types) refl;
  pools_fit = of_both (λ bs fs. no_pools (created_in_all bs ++ creations_with program fs)) refl;
  variables_fit = refl;
  creates_in_order = ap (λ (fs : StmtsForm). creates_from 1 0 (creations_with program fs)) forms_are;
  collections_first = refl;
  collections_fit = refl;
  has_one_each = of_both (λ bs fs. has_collections (created_in_all bs ++ creations_with program fs) 0 (program_form program).types) refl;
  initials_fit = refl;
  statements_fit = of_both (λ bs fs. stmts_fit (program_form program).types (program_form program).variables [] [] (map profile_of bs) false fs) refl;
  handlers_fit = refl;
  bodies_fit = ap (bodies_fit (program_form program).types [] [] []) bodies_are;
}

frees_own : FreesItsOwn (program_form program)
frees_own = record {
  statements = of_both (λ bs fs. statements_free_own (program_form program).types (program_form program).variables fs) refl;
  handlers = refl;
  bodies = of_both (λ bs fs. list_all (body_frees_own (program_form program).types) bs) refl;
}

-- The Finalize is still, and it alone declares the access type.
one_body : (procedure : ℕ) (b : BodyForm) → slice_get bodies procedure ≡ Some b → slice_index_or (still_from (program_form program).types [] bodies) procedure false ≡ true
one_body zero b there = refl
one_body (suc procedure) b there = absurd (cc there)

collects_still : CollectStill near (program_form program)
collects_still = record {
  main = of_both (λ bs fs. stmts_keep (bounds_without near) fs && true) refl;
  bodies = λ procedure b there.
      inr (subst (λ (bs : List BodyForm). slice_index_or (still_from (program_form program).types [] bs) procedure false ≡ true) (sym bodies_are)
      (one_body procedure b (subst (λ (bs : List BodyForm). slice_get bs procedure ≡ Some b) bodies_are there)));
}

-- The Finalize has allocated its object.
allocated : InSomeRun program (λ events last. AllocatesInOperation near last)
unfolding next expression_form stmt_form
allocated =
    run_by program bodies forms bodies_are forms_are (steps 7 ++ takes 0 ∷ steps 4 ++ grants true ∷ [])
    (λ events last. AllocatesInOperation near last) refl
    (record {
      o = record { 0 = 1 };
      object = _;
      there = refl;
      listed = refl;
      mine = refl;
      opened = (record { number = 1; owned = collection 1 (Some 0) }, Some 0, (0, omega arith, refl), refl);
      operates = refl;
    })

-- The run ends.
finishes : InSomeRun program (λ events last. Halts program last Finished)
unfolding next expression_form stmt_form
finishes =
    run_by program bodies forms bodies_are forms_are (steps 7 ++ takes 0 ∷ steps 4 ++ grants true ∷ steps 7 ++ takes 0 ∷ steps 10)
    (λ events last. Halts program last Finished) refl refl

-- Its collections nest, and the Finalize nests where none of its own is open.
nests : CollectionsNest (program_form program)
nests = record {
  declarations = refl;
  statements = of_both
      (λ bs fs. statements_nest (program_form program).types (callees_from (program_form program).types [] bs) (collected (program_form program).declarations) fs)
      refl;
  handlers = refl;
}

abbrev callees : List BodyForm → Callees
callees bs = callees_from (program_form program).types [] bs

own_nests : (around : List ℕ) → is_one_of around 1 ≡ false → call_nests (slice_get (callees bodies) 0) around ≡ true
own_nests around none = rw none refl

and_none : (b : Bool) → (b && false) ≡ false
and_none true = refl
and_none false = refl

nests_without : (procedure : ℕ) (all others : List ℕ) → IsWithout near all others → call_nests (slice_get (callees bodies) procedure) all ≡ true
    → call_nests (slice_get (callees bodies) procedure) others ≡ true
nests_without zero all others without is = own_nests others (without 1 ∙ and_none (is_one_of all 1))
nests_without (suc procedure) all others without is = absurd (cc is)

operations_beside : (t : ℕ) → AllNestBeside near (program_form program).types (callees bodies) (operations_in (finalization_of (program_form program).types t))
operations_beside zero = (tt, tt, tt)
operations_beside (suc zero) = (tt, tt, tt)
operations_beside (suc (suc zero)) = (tt, tt, λ around opened none. own_nests around (none 1 refl))
operations_beside (suc (suc (suc zero))) = (tt, tt, tt)
operations_beside (suc (suc (suc (suc zero)))) = (tt, tt, tt)
operations_beside (suc (suc (suc (suc (suc n))))) = (tt, tt, tt)

other_kinds : (t : ℕ) → near t ≡ false → are_other_kinds near (reached_components (program_form program).types t) ≡ true
other_kinds zero is = refl
other_kinds (suc zero) is = refl
other_kinds (suc (suc zero)) is = refl
other_kinds (suc (suc (suc zero))) is = refl
other_kinds (suc (suc (suc (suc zero)))) is = refl
other_kinds (suc (suc (suc (suc (suc n))))) is = refl

nests_beside : NestBeside near (program_form program)
nests_beside = record {
  others = other_kinds;
  calls = λ procedure all others without.
      subst (λ (bs : List BodyForm). call_nests (slice_get (callees bs) procedure) all ≡ true → call_nests (slice_get (callees bs) procedure) others ≡ true) (sym bodies_are)
      (nests_without procedure all others without);
  operations = λ t.
      subst (λ (bs : List BodyForm). AllNestBeside near (program_form program).types (callees bs) (operations_in (finalization_of (program_form program).types t))) (sym bodies_are)
      (operations_beside t);
}

pub premise_is_met : PremiseIsMet
premise_is_met = (program, well_formed, nests, frees_own, near, collects_still, nests_beside, allocated, finishes)

-- The text says so of the own types of its operations.
abbrev over : List BodyForm → StmtsForm → ProgramForm
over bs fs =
    let p = program_form program in
    record {
      types = p.types;
      pools = p.pools;
      bodies = bs;
      formals = p.formals;
      variables = p.variables;
      texts = p.texts;
      exceptions = p.exceptions;
      declarations = p.declarations;
      statements = fs;
      handlers = p.handlers;
      start_spot = p.start_spot;
      end_spot = p.end_spot;
    }

text_is_still : still_by_text (own_of_operations (program_form program)) (program_form program) ≡ true
text_is_still = of_both (λ bs fs. still_by_text (own_of_operations (over bs fs)) (over bs fs)) refl

text_nests : nest_by_text (own_of_operations (program_form program)) (program_form program) ≡ true
text_nests = of_both (λ bs fs. nest_by_text (own_of_operations (over bs fs)) (over bs fs)) refl

own_there : own_of_operations (program_form program) 1 ≡ true
own_there = of_both (λ bs fs. own_of_operations (over bs fs) 1) refl

allocated_own : InSomeRun program (λ events last. AllocatesInOperation (own_of_operations (program_form program)) last)
unfolding next expression_form stmt_form
allocated_own =
    run_by program bodies forms bodies_are forms_are (steps 7 ++ takes 0 ∷ steps 4 ++ grants true ∷ [])
    (λ events last. AllocatesInOperation (own_of_operations (program_form program)) last) refl
    (record {
      o = record { 0 = 1 };
      object = _;
      there = refl;
      listed = refl;
      mine = own_there;
      opened = (record { number = 1; owned = collection 1 (Some 0) }, Some 0, (0, omega arith, refl), refl);
      operates = refl;
    })

pub text_says_so : TextSaysSo
text_says_so = (program, well_formed, nests, frees_own, text_is_still, text_nests, allocated_own, finishes)

-- In another such program the Finalize declares an object of its own type, Y : Link, in place of the allocator.
abbrev recurring_bodies : List BodyForm
recurring_bodies = finalizes (known_by 5 ∷ known_by 4 ∷ []) (collects 1 ∷ declares_record 1 4 None ∷ []) ∷ []

recurring_forms_are : stmt_forms recurring.program ≡ forms
recurring_forms_are = simp statement_rules

recurring_bodies_are : body_forms recurring.program ≡ recurring_bodies
recurring_bodies_are = simp statement_rules

recurring_frees_own : FreesItsOwn (program_form recurring.program)
recurring_frees_own = record {
  statements = ap (λ (fs : StmtsForm). statements_free_own (program_form recurring.program).types (program_form recurring.program).variables fs) recurring_forms_are;
  handlers = refl;
  bodies = ap (λ (bs : List BodyForm). list_all (body_frees_own (program_form recurring.program).types) bs) recurring_bodies_are;
}

-- An object is treated next.
abbrev treats_first : List (Frame Value) → Bool
treats_first [] = false
treats_first (f ∷ k) = is_treatment f

-- The collection of the access type is owned, or open in the innermost master.
abbrev is_near : Owned → Bool
is_near (declared x) = false
is_near (collection access pool) = near access
is_near (record_object t) = false
is_near (storage_pool declaration number) = false

abbrev has_near : List Item → Bool
has_near [] = false
has_near (i ∷ is) = is_near i.owned || has_near is

abbrev opens_near : List Master → Bool
opens_near [] = false
opens_near (m ∷ ms) = has_near m.items

not_near : (owned : Owned) → is_near owned ≡ true → IsOther near owned → ⊥
not_near (declared x) is other = cc is
not_near (collection access pool) is other = cc (is, other)
not_near (record_object t) is other = cc is
not_near (storage_pool declaration number) is other = cc is

either_near : (i : Item) (mine : Bool) (rest : Bool) → is_near i.owned ≡ mine → IsOther near i.owned → (rest ≡ true → ⊥) → (mine || rest) ≡ true → ⊥
either_near i true rest is other none has = not_near i.owned is other
either_near i false rest is other none has = none has

no_near : (is : List Item) → has_near is ≡ true → AreOther near is → ⊥
no_near [] has other = cc has
no_near (i ∷ is) has other = either_near i (is_near i.owned) (has_near is) refl other.0 (λ rest. no_near is rest other.1) has

treated_open : (k : List (Frame Value)) (ms : List Master) → treats_first k ≡ true → opens_near ms ≡ true → TreatsWhereNoneIsOpen near k ms → ⊥
treated_open [] ms treats opens elsewhere = cc treats
treated_open (f ∷ k) [] treats opens elsewhere = cc opens
treated_open (f ∷ k) (m ∷ ms) treats opens elsewhere = no_near m.items opens (elsewhere.0 treats).0

-- That object is finalized next, while the collection is open.
recurs : InSomeRun recurring.program (λ events last. (treats_first last.control ≡ true) × (opens_near last.masters ≡ true))
unfolding next expression_form stmt_form
recurs =
    run_by recurring.program recurring_bodies forms recurring_bodies_are recurring_forms_are (steps 7 ++ takes 0 ∷ steps 9 ++ takes 0 ∷ [])
    (λ events last. (treats_first last.control ≡ true) × (opens_near last.masters ≡ true)) refl (refl, refl)

treats_there : TreatsElsewhere recurring.program near → ⊥
treats_there all = let run = recurs in treated_open run.2.control run.2.masters run.4.0 run.4.1 (all run.0 run.1 run.2 run.3)

pub premise_is_needed : PremiseIsNeeded
premise_is_needed = (recurring.program, recurring.well_formed, recurring_frees_own, near, treats_there)
