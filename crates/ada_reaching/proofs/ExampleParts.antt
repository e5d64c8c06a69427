-- What the examples share: types and their objects, the body that calls, and what is left of it, and what it takes to be well formed, and to shun a type.

use Rattle.std.proofs.Common.{◌≡◌, ◌≢◌, ◌<◌, ℕ, Bool, false, true, ◌==◌, List, [], ◌∷◌, arith, refl, sym, ap, ◌∙◌, subst, inl, inr, ◌&&◌, length}
use Rattle.std.specs.Prelude.{Option, Some, None, pos}
use Rattle.std.specs.Global.{Vec}
use Rattle.std.specs.List.{slice_get, list_all}
use Rattle.std.proofs.lemmas.Bool.{eqb-true, and_parts}
use Rattle.ada_values.specs.declared.value.Value.TheVariants as scalar
use Rattle.ada_program.specs.declared.program.ComponentKind.{ComponentKind}
use Rattle.ada_program.specs.declared.program.ComponentKind.TheVariants as kind
use Rattle.ada_program.specs.declared.program.Declaration.{Declaration}
use Rattle.ada_program.specs.declared.program.Declaration.TheVariants as declaration
use Rattle.ada_program.specs.declared.program.FormalMode.{FormalMode}
use Rattle.ada_program.specs.declared.program.Part.{Part}
use Rattle.ada_program.specs.declared.program.PartKind.TheVariants as part
use Rattle.ada_program.specs.declared.program.Path.{Path}
use Rattle.ada_program.specs.declared.program.Procedure.{Procedure}
use Rattle.ada_program.specs.declared.program.Program.{Program}
use Rattle.ada_program.specs.declared.program.Right.TheVariants as right
use Rattle.ada_program.specs.declared.program.Stmt.{Stmt}
use Rattle.ada_program.specs.declared.program.Stmt as stmt
use Rattle.ada_program.specs.declared.program.TypeDefinition.{TypeDefinition}
use Rattle.ada_program.specs.declared.program.TypeDefinition.TheVariants as definition
use Rattle.ada_program.specs.declared.program.Variable.{Variable}
use Rattle.ada_program.specs.declared.program.VariableKind.TheVariants as variable
use Rattle.ada_program.specs.Form.{ActualForm, no_stmts, no_handlers}
use Rattle.ada_program.specs.ProgramForm.{BodyForm, ProgramForm, TypeForm}
use Rattle.ada_program.specs.WellFormed.{IsWellFormed, is_access, variable_fits, creates_from, creations, collections_first, collection_fits, initial_fits, stmts_fit, handlers_fit, callable_in, bodies_fit, tables_fit}
use Rattle.ada_deeds.specs.declared.deed.Callee.{Callee}
use Rattle.ada_deeds.specs.declared.deed.Callee.TheVariants as callee
use Rattle.ada_deeds.specs.declared.deed.Deed.{Deed}
use Rattle.ada_deeds.specs.declared.deed.Deed.TheVariants.{Follows, Frees}
use Rattle.ada_deeds.specs.Does.{Does}
use Rattle.ada_deeds.specs.Laws.{DoesFree}
use Rattle.ada_deeds.specs.Within.{does_by}
use Rattle.ada_deeds.proofs.Within.{counts_are_enough}
use Rattle.ada_meaning.specs.declared.state.Id.{Id}
use Rattle.ada_meaning.specs.declared.state.Stage.TheVariants.{Existing}
use Rattle.ada_meaning.specs.declared.state.Value.{Value}
use Rattle.ada_meaning.specs.declared.state.Value.TheVariants.{Null, Names, Scalar}
use Rattle.ada_meaning.specs.Frame.{Frame, is_return}
use Rattle.ada_meaning.specs.Frame as frame
use Rattle.ada_meaning.specs.Named.{Object}
use Rattle.ada_meaning.specs.State.{Activation, declared, collection, Master, height}
use Rattle.ada_meaning.proofs.OperationExamples.{component_of}
use Rattle.ada_typed.proofs.Example.{vec, no_name, spot, parts}
use Rattle.ada_reaching.specs.Apart.{Apart}
use Rattle.ada_reaching.specs.Forms.{body_shuns}
use Rattle.ada_reaching.specs.Deeds.{DoesFollow, UseNone}
use Rattle.ada_reaching.specs.Law.{AreApart}
use Rattle.ada_reaching.specs.Reaching.{IsOfShunned, AreElsewhere, AreLow, AreOwnedApart, LeftShuns}

-- What the components of Link hold, Value : Integer := 0 and Next : Near,
abbrev components : List ComponentKind
components = kind.Integer (pos 0) ∷ kind.Access (record { 0 = 1 }) ∷ []

-- and both as they are declared.
abbrev both_parts : List Part
both_parts =
    component_of (part.Elementary (kind.Integer (pos 0))) 0 0 ∷ component_of (part.Elementary (kind.Access (record { 0 = 1 }))) 1 0 ∷ []

-- type Cell is record Value : Integer := 0; end record; type Near is access Cell;
-- type Link is record Value : Integer := 0; Next : Near; end record; type Far is access Link;
abbrev pub types : List TypeDefinition
types =
    definition.Record no_name (vec parts (omega arith)) (vec (kind.Integer (pos 0) ∷ []) (omega arith)) None
    ∷ definition.Access no_name (record { 0 = 0 }) None
    ∷ definition.Record no_name (vec both_parts (omega arith)) (vec components (omega arith)) None
    ∷ definition.Access no_name (record { 0 = 2 }) None
    ∷ []

-- N, and Y
abbrev pub near_path : Path
near_path = record { root = record { 0 = 1 }; selectors = vec [] (omega arith); of_record = false; spot = spot }

-- X
abbrev pub far_path : Path
far_path = record { root = record { 0 = 0 }; selectors = vec [] (omega arith); of_record = false; spot = spot }

-- A variable or a parameter of Far, and one of Near.
abbrev pub variables : List Variable
variables =
    record { name = no_name; spot = spot; kind = variable.Access (record { 0 = 3 }); borrows = false }
    ∷ record { name = no_name; spot = spot; kind = variable.Access (record { 0 = 1 }); borrows = false }
    ∷ []

-- A procedure of one statement, without handlers.
abbrev pub one_statement : Vec FormalMode → Vec Variable → Vec Declaration → Stmt → Procedure
one_statement formals variables declarations statement = record {
  formals = formals;
  variables = variables;
  declarations = declarations;
  statements = vec (statement ∷ []) (omega arith);
  handlers = vec [] (omega arith);
  start = spot;
  end = spot;
}

-- procedure Fill is X : Far := new Link; Y : Near := new Cell; begin ..; end Fill;
abbrev pub fill : Stmt → Procedure
fill statement =
    one_statement (vec [] (omega arith)) (vec variables (omega arith))
    (vec
    (declaration.Variable (record { 0 = 0 }) (Some (right.Default (record { 0 = 3 })))
    ∷ declaration.Variable (record { 0 = 1 }) (Some (right.Default (record { 0 = 1 }))) ∷ []) (omega arith)) statement

-- begin Fill; end;
abbrev pub program : (first : Procedure) → (statement : Stmt) → Program
program first statement = record {
  types = vec types (omega arith);
  pools = vec [] (omega arith);
  procedures = vec (first ∷ fill statement ∷ []) (omega arith);
  variables = vec [] (omega arith);
  texts = vec [] (omega arith);
  exceptions = vec [] (omega arith);
  declarations = vec (declaration.Collection (record { 0 = 1 }) ∷ declaration.Collection (record { 0 = 3 }) ∷ []) (omega arith);
  statements = vec (stmt.Call (record { 0 = 1 }) (vec [] (omega arith)) ∷ []) (omega arith);
  handlers = vec [] (omega arith);
}

-- What a well-formed program has beside its tables, all at once.
abbrev pub rest_fits : ProgramForm → Bool
rest_fits p =
    list_all (variable_fits p.types) p.variables && creates_from (length p.variables) 0 (creations p) && collections_first p.declarations
    && list_all (collection_fits p.types) p.declarations && list_all (initial_fits p.types p.variables) p.declarations
    && stmts_fit p.types p.variables p.texts p.exceptions (callable_in p) false p.statements
    && handlers_fit p.types p.variables p.texts p.exceptions (callable_in p) false p.handlers && bodies_fit p.types p.texts p.exceptions [] p.bodies

-- A program is well formed where both are so.
pub well_by : (p : ProgramForm) → tables_fit p ≡ true → rest_fits p ≡ true → IsWellFormed p
well_by p tables rest =
    let pools = and_parts _ _ tables in
    let operations = and_parts _ _ pools.0 in
    let components = and_parts _ _ operations.0 in
    let own = and_parts _ _ components.0 in
    let handlers = and_parts _ _ rest in
    let statements = and_parts _ _ handlers.0 in
    let initials = and_parts _ _ statements.0 in
    let collections = and_parts _ _ initials.0 in
    let first = and_parts _ _ collections.0 in
    let order = and_parts _ _ first.0 in
    let variables = and_parts _ _ order.0 in
    record {
      types_fit = own.0;
      components_lie = own.1;
      operations_fit = components.1;
      pools_fit = operations.1;
      variables_fit = variables.0;
      creates_in_order = variables.1;
      collections_first = order.1;
      collections_fit = first.1;
      has_one_each = pools.1;
      initials_fit = collections.1;
      statements_fit = initials.1;
      handlers_fit = statements.1;
      bodies_fit = handlers.1;
    }

-- The bodies are to shun Near.
abbrev pub shuns : ℕ → Bool
shuns access = access == 1

-- They call the first procedure alone, and free and allocate no object with controlled parts,
abbrev pub apart : List TypeDefinition → Apart
apart definitions = record { calls = λ procedure. procedure == 0; ends = λ access. false; starts = λ access. false; assigns = λ r. false; copies = λ r. false; definitions = definitions }

-- What is found is the one body that does so,
pub found_shuns :
    (p : ProgramForm) (shunned : ℕ → Bool) (may : Apart) (own b : BodyForm) (found : Option BodyForm) → found ≡ Some own
    → body_shuns p.types shunned may own ≡ true → found ≡ Some b → body_shuns p.types shunned may b ≡ true
found_shuns p shunned may own b found own_is does is =
    let same : own ≡ b = cc in
    subst (λ (one : BodyForm). body_shuns p.types shunned may one ≡ true) same does

-- that of the first procedure.
pub calls_first :
    (p : ProgramForm) (definitions : List TypeDefinition) (own : BodyForm) → slice_get p.bodies 0 ≡ Some own → (shunned : ℕ → Bool)
    → body_shuns p.types shunned (apart definitions) own ≡ true → AreApart p definitions shunned (apart definitions)
calls_first p definitions own own_is shunned does = record {
  own = refl;
  bodies = λ procedure b is found.
      found_shuns p shunned (apart definitions) own b (slice_get p.bodies 0) own_is does
      (subst (λ (n : ℕ). slice_get p.bodies n ≡ Some b) (eqb-true procedure 0 is) found);
  operations = record {
    finalizes = λ access of part number tasks ends left overrides. absurd (cc ends);
    initializes = λ access of part number starts begun overrides. absurd (cc starts);
    undoes = λ access of part number starts begun overrides. absurd (cc starts);
    overwrites = λ record_type of part number tasks assigned left said. absurd (cc assigned);
    adjusts = λ record_type of part number tasks copied left overrides. absurd (cc copied);
  };
}

-- A procedure does no deed that is not found in it and its calls.
abbrev pub called : ℕ → Callee
called procedure = callee.Procedure (record { 0 = procedure })

pub not_done : (p : ProgramForm) (d : Deed) (procedure : ℕ) → does_by p d (called procedure) ≡ false → ¬ Does p d (called procedure)
not_done p d procedure none done =
    let found = (counts_are_enough p d (called procedure)).1 done in
    absurd (cc (sym none ∙ found))

-- A procedure follows no value of Near, and frees none,
abbrev pub UsesNone : ProgramForm → (procedure : ℕ) → Type 0
UsesNone p procedure = (¬ DoesFollow p procedure 1) × (¬ DoesFree p procedure 1)

-- where neither is found.
pub uses_none :
    (p : ProgramForm) (procedure : ℕ) → does_by p (Follows (record { 0 = 1 })) (called procedure) ≡ false
    → does_by p (Frees (record { 0 = 1 })) (called procedure) ≡ false → UsesNone p procedure
uses_none p procedure follows frees =
    (not_done p (Follows (record { 0 = 1 })) procedure follows, not_done p (Frees (record { 0 = 1 })) procedure frees)

-- If it is so with all that is called, none uses what is shunned: that is Near alone.
pub none_used : (p : ProgramForm) (may : Apart) → ((procedure : ℕ) → may.calls procedure ≡ true → UsesNone p procedure) → UseNone p shuns may
none_used p may each = record {
  follow_none = λ procedure access among is. subst (λ (t : ℕ). ¬ DoesFollow p procedure t) (sym (eqb-true access 1 is)) (each procedure among).0;
  free_none = λ procedure access among is. subst (λ (t : ℕ). ¬ DoesFree p procedure t) (sym (eqb-true access 1 is)) (each procedure among).1;
}

-- So it is where the first procedure alone is called.
pub first_uses_none :
    (p : ProgramForm) (definitions : List TypeDefinition) → does_by p (Follows (record { 0 = 1 })) (called 0) ≡ false
    → does_by p (Frees (record { 0 = 1 })) (called 0) ≡ false → UseNone p shuns (apart definitions)
first_uses_none p definitions follows frees =
    none_used p (apart definitions)
    (λ procedure among. subst (λ (n : ℕ). UsesNone p n) (sym (eqb-true procedure 0 among)) (uses_none p 0 follows frees))

-- The object of Far,
abbrev pub link : Object
link = record {
  cell = record {
    access = 3;
    number = 1;
    home = record { item = 1; pool = Some 0; subpool = None };
    values = Scalar (scalar.Integer (pos 0)) ∷ Null ∷ [];
    parts = [];
  };
  stage = Existing;
  listed = true;
  out = true;
}

-- and that of Near, which is the ghost.
abbrev pub near : Object
near = record {
  cell = record {
    access = 1;
    number = 2;
    home = record { item = 0; pool = Some 0; subpool = None };
    values = Scalar (scalar.Integer (pos 0)) ∷ [];
    parts = [];
  };
  stage = Existing;
  listed = true;
  out = true;
}

-- It is the second one.
abbrev pub ghosts : Id → Bool
ghosts o = o.0 == 1

-- It is of a type that is to be shunned.
pub second_there :
    (definitions : List TypeForm) (other : Object) → is_access definitions 1 ≡ true → (o : Id) → ghosts o ≡ true
    → IsOfShunned definitions shuns (slice_get (other ∷ near ∷ []) o.0)
second_there definitions other accessed o is =
    subst (λ (n : ℕ). IsOfShunned definitions shuns (slice_get (other ∷ near ∷ []) n)) (sym (eqb-true o.0 1 is))
    (record { object = near; there = refl; shunned = refl; accessed = accessed })

-- So it is where it is the first one that is allocated.
abbrev pub first_near : Object
first_near = record near { cell = record (near.cell) { number = 1 } }

-- It alone is a ghost then,
abbrev pub first_ghost : Id → Bool
first_ghost o = o.0 == 0

-- of a type that is to be shunned.
pub first_there :
    (definitions : List TypeForm) (others : List Object) → is_access definitions 1 ≡ true → (o : Id) → first_ghost o ≡ true
    → IsOfShunned definitions shuns (slice_get (first_near ∷ others) o.0)
first_there definitions others accessed o is =
    subst (λ (n : ℕ). IsOfShunned definitions shuns (slice_get (first_near ∷ others) n)) (sym (eqb-true o.0 0 is))
    (record { object = first_near; there = refl; shunned = refl; accessed = accessed })

-- Where one object alone is a ghost, the home of the ghosts is older than what the bodies own if that of the object is.
pub one_low :
    (lower : List Master) (heap : List Object) (n : ℕ) (own : Object) → slice_get heap n ≡ Some own → own.cell.home.item < height lower
    → AreLow (λ (o : Id). o.0 == n) lower heap
one_low lower heap n own there below o x is at listed =
    let found : slice_get heap n ≡ Some x = subst (λ (i : ℕ). slice_get heap i ≡ Some x) (eqb-true o.0 n is) at in
    let same : own ≡ x = cc (there, found) in
    subst (λ (y : Object). y.cell.home.item < height lower) same below

-- The master of the main body, which owns the collections of Near and of Far.
abbrev pub of_main : List Master
of_main =
    record { number = 0; items = record { number = 1; owned = collection 3 (Some 0) } ∷ record { number = 0; owned = collection 1 (Some 0) } ∷ [] } ∷ []

-- That of Fill, which owns X and Y.
abbrev pub of_fill : Master
of_fill = record { number = 1; items = record { number = 3; owned = declared 1 } ∷ record { number = 2; owned = declared 0 } ∷ [] }

-- That of the first procedure, which owns nothing.
abbrev pub of_first : Master
of_first = record { number = 2; items = [] }

-- The component of the other one holds null before, and no name.
pub holds_null : (o : Id) → Some Null ≢ Some (Names o)
holds_null o same = absurd (cc same)

-- The statements of a body are done.
abbrev pub done : (behind : List (Frame Value)) → List (Frame Value)
done behind = frame.Does no_stmts ∷ frame.Handles no_handlers ∷ frame.Closes ∷ behind

-- Fill shuns Near, where it waits for the end of the first procedure, has nothing left to do but its end, and gets nothing back in a component: what its
-- variables hold refers to no ghost.
pub end_shuns :
    (p : ProgramForm) (may : Apart) (ghosts unnamed : Id → Bool) (behind : List (Frame Value)) (lower : List Master) (actuals : List ActualForm)
    (fills : Master) (held : List Value) (suspended : List (Activation Value)) → AreOwnedApart may lower fills.items → AreElsewhere ghosts unnamed held
    → LeftShuns p shuns may ghosts unnamed behind lower (Some 0) (frame.Returns actuals [] ∷ done (frame.Returns [] [] ∷ behind)) (fills ∷ [])
    (record { procedure = Some 1; places = held; operands = [] } ∷ suspended)
end_shuns p may ghosts unnamed behind lower actuals fills held suspended owned others =
    inr (record { references = tt; places = others; operands = tt; anew = inl refl; others = (refl, refl, (refl, refl, (tt, refl, (owned, inl (refl, refl))))) })

-- So it is in front of that, where the first procedure has nothing left to do but its end.
pub done_shun :
    (p : ProgramForm) (may : Apart) (ghosts unnamed : Id → Bool) (behind : List (Frame Value)) (lower : List Master) (actuals : List ActualForm)
    (first fills : Master) (held : List Value) (suspended : List (Activation Value)) → AreOwnedApart may lower first.items
    → AreOwnedApart may lower fills.items → AreElsewhere ghosts unnamed held
    → LeftShuns p shuns may ghosts unnamed behind lower (Some 0) (done (frame.Returns actuals [] ∷ done (frame.Returns [] [] ∷ behind)))
    (first ∷ fills ∷ []) (record { procedure = Some 1; places = held; operands = [] } ∷ suspended)
done_shun p may ghosts unnamed behind lower actuals first fills held suspended own owned others = (
  refl,
  refl,
  (refl, refl, (tt, refl, (own, end_shuns p may ghosts unnamed behind lower actuals fills held suspended owned others))),
)

-- What is no end of a call is not that of the outermost body.
pub no_end : (f : Frame Value) → is_return f ≡ false → (k l : List (Frame Value)) → f ∷ k ≡ frame.Returns [] [] ∷ l → ⊥
no_end f further k l same =
    let heads : f ≡ frame.Returns [] [] = cc same in
    let ends : is_return f ≡ true = ap (λ (g : Frame Value). is_return g) heads in
    absurd (cc (ends, further))
