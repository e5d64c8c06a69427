-- Bodies: what a well-formed program says of the program as each of its bodies sees it.

use Rattle.std.proofs.Common.{◌≡◌, ℕ, zero, suc, true, false, List, [], ◌∷◌, ◌++◌, length, map, take, Option, Some, None, ◌&&◌, refl, sym, ap, ◌∙◌, subst}
use Rattle.std.proofs.lemmas.List.{append-nil, append_assoc}
use Rattle.std.specs.List.{slice_get, list_all}
use Rattle.ada_program.specs.Freed.{statements_free_own, handlers_free_own, body_frees_own, FreesItsOwn}
use Rattle.ada_program.specs.ProgramForm.{TypeForm, BodyForm, ProgramForm, seen_by, seen_at, seen_in}
use Rattle.ada_program.specs.WellFormed.{IsWellFormed, type_fits, variable_fits, collections_first, collection_fits, initial_fits, declarations_fit, stmts_fit, handlers_fit, Profile, profile_of, callable_in, created_in, creates_from, body_fits, bodies_fit}
use Rattle.ada_typed.proofs.Operators.{and_left, and_right}
use Rattle.ada_typed.proofs.OfKinds.{initial_is_of_kind, statements_are_of_kind, handlers_are_of_kind, initials_weaker, statements_weaker, handlers_weaker}
use Rattle.ada_typed.proofs.Control.{OwnBody}

-- The types and the variables of a program fit, as a body sees it: what a step inside the body needs.
pub record TablesFit (own : ProgramForm) : Type 0 where
  pub types_fit : list_all (type_fits own.types) own.types ≡ true
  pub variables_fit : list_all (variable_fits own.types) own.variables ≡ true

-- What holds of a well-formed program as one of its bodies sees it (6.3).
pub record SeenFits (own : ProgramForm) : Type 0 where
  pub types_fit : list_all (type_fits own.types) own.types ≡ true
  pub variables_fit : list_all (variable_fits own.types) own.variables ≡ true
  pub collections_first : collections_first own.declarations ≡ true
  pub collections_fit : list_all (collection_fits own.types) own.declarations ≡ true
  pub initials_fit : list_all (initial_fits own.types own.variables) own.declarations ≡ true
  pub statements_fit : stmts_fit own.types own.variables own.texts own.exceptions (callable_in own) false own.statements ≡ true
  pub handlers_fit : handlers_fit own.types own.variables own.texts own.exceptions (callable_in own) false own.handlers ≡ true

-- So its tables fit.
pub tables_in : (own : ProgramForm) → SeenFits own → TablesFit own
tables_in own fit = record { types_fit = fit.types_fit; variables_fit = fit.variables_fit }

-- What its body begins with is of the kinds that are wanted.
pub initials_begin : (own : ProgramForm) → SeenFits own → list_all (initial_is_of_kind own.types own.variables) own.declarations ≡ true
initials_begin own fit = initials_weaker own.types own.variables own.declarations fit.initials_fit

pub statements_begin : (own : ProgramForm) → SeenFits own → statements_are_of_kind own.types own.variables own.texts own.exceptions (callable_in own) false own.statements ≡ true
statements_begin own fit = statements_weaker own.types own.variables own.texts own.exceptions (callable_in own) false own.statements fit.statements_fit

pub handlers_begin : (own : ProgramForm) → SeenFits own → handlers_are_of_kind own.types own.variables own.texts own.exceptions (callable_in own) false own.handlers ≡ true
handlers_begin own fit = handlers_weaker own.types own.variables own.texts own.exceptions (callable_in own) false own.handlers fit.handlers_fit

-- The procedures that a body may call are among these, by their numbers.
abbrev pub Sees : List BodyForm → ProgramForm → Type 0
Sees bodies own = (number : ℕ) (b : BodyForm) → slice_get own.bodies number ≡ Some b → slice_get bodies number ≡ Some b

-- Of the bodies of a program, each fits behind those before it.
pub body_at : (types : List TypeForm) (texts exceptions : List (List ℕ)) (callable : List Profile) (bs : List BodyForm) (number : ℕ) (b : BodyForm) → bodies_fit types texts exceptions callable bs ≡ true → slice_get bs number ≡ Some b → body_fits types texts exceptions (callable ++ map profile_of (take number bs)) b ≡ true
body_at types texts exceptions callable [] number b fit is = absurd (cc)
body_at types texts exceptions callable (c ∷ bs) zero b fit is =
    let one : c ≡ b = cc in
    subst (λ (x : BodyForm). body_fits types texts exceptions (callable ++ []) x ≡ true) one
    (subst (λ (profiles : List Profile). body_fits types texts exceptions profiles c ≡ true) (sym (append-nil callable))
    (and_left (body_fits types texts exceptions callable c) (bodies_fit types texts exceptions (callable ++ profile_of c ∷ []) bs) fit))
body_at types texts exceptions callable (c ∷ bs) (suc number) b fit is =
    subst (λ (profiles : List Profile). body_fits types texts exceptions profiles b ≡ true) (append_assoc callable (profile_of c ∷ []) (map profile_of (take number bs)))
    (body_at types texts exceptions (callable ++ profile_of c ∷ []) bs number b (and_right (body_fits types texts exceptions callable c) (bodies_fit types texts exceptions (callable ++ profile_of c ∷ []) bs) fit) is)

-- What is said of one body, in parts.
seen_body : (p : ProgramForm) → IsWellFormed p → (number : ℕ) (b : BodyForm) → slice_get p.bodies number ≡ Some b → SeenFits (seen_by number b p)
seen_body p well number b is =
    let callable = map profile_of (take number p.bodies) in
    let whole = body_at p.types p.texts p.exceptions [] p.bodies number b well.bodies_fit is in
    let variables = list_all (variable_fits p.types) b.variables in
    let creates = creates_from (length b.variables) (length b.formals) (created_in b) in
    let declared = declarations_fit p.types b.variables b.declarations in
    let statements = stmts_fit p.types b.variables p.texts p.exceptions callable false b.statements in
    let handled = handlers_fit p.types b.variables p.texts p.exceptions callable false b.handlers in
    let four = and_left (variables && creates && declared && statements) handled whole in
    let three = and_left (variables && creates && declared) statements four in
    let own = and_right (variables && creates) declared three in
    let first = collections_first b.declarations in
    let collections = list_all (collection_fits p.types) b.declarations in
    let initials = list_all (initial_fits p.types b.variables) b.declarations in
    record {
      types_fit = well.types_fit;
      variables_fit = and_left variables creates (and_left (variables && creates) declared three);
      collections_first = and_left first collections (and_left (first && collections) initials own);
      collections_fit = and_right first collections (and_left (first && collections) initials own);
      initials_fit = and_right (first && collections) initials own;
      statements_fit = and_right (variables && creates && declared) statements four;
      handlers_fit = and_right (variables && creates && declared && statements) handled whole;
    }

pub main_fits : (p : ProgramForm) → IsWellFormed p → SeenFits p
main_fits p well = record {
  types_fit = well.types_fit;
  variables_fit = well.variables_fit;
  collections_first = well.collections_first;
  collections_fit = well.collections_fit;
  initials_fit = well.initials_fit;
  statements_fit = well.statements_fit;
  handlers_fit = well.handlers_fit;
}

seen_at_fits : (p : ProgramForm) → IsWellFormed p → (number : ℕ) (found : Option BodyForm) → slice_get p.bodies number ≡ found → SeenFits (seen_at number found p)
seen_at_fits p well number None is = main_fits p well
seen_at_fits p well number (Some b) is = seen_body p well number b is

-- So it is for each body of a well-formed program.
pub seen_fits : (p : ProgramForm) → IsWellFormed p → (procedure : Option ℕ) → SeenFits (seen_in procedure p)
seen_fits p well None = main_fits p well
seen_fits p well (Some number) = seen_at_fits p well number (slice_get p.bodies number) refl

-- A body calls procedures of the program.
among_all : (n : ℕ) (bs : List BodyForm) (number : ℕ) (b : BodyForm) → slice_get (take n bs) number ≡ Some b → slice_get bs number ≡ Some b
among_all zero bs number b is = absurd (cc)
among_all (suc n) [] number b is = absurd (cc)
among_all (suc n) (c ∷ bs) zero b is = is
among_all (suc n) (c ∷ bs) (suc number) b is = among_all n bs number b is

sees_at : (p : ProgramForm) (number : ℕ) (found : Option BodyForm) → Sees p.bodies (seen_at number found p)
sees_at p number None called b is = is
sees_at p number (Some own) called b is = among_all number p.bodies called b is

pub sees : (p : ProgramForm) (procedure : Option ℕ) → Sees p.bodies (seen_in procedure p)
sees p None called b is = is
sees p (Some number) called b is = sees_at p number (slice_get p.bodies number) called b is

-- Each body sees the same types, and the procedure of a number by its own body.
types_at : (p : ProgramForm) (number : ℕ) (found : Option BodyForm) → (seen_at number found p).types ≡ p.types
types_at p number None = refl
types_at p number (Some b) = refl

pub types_seen : (p : ProgramForm) (procedure : Option ℕ) → (seen_in procedure p).types ≡ p.types
types_seen p None = refl
types_seen p (Some number) = types_at p number (slice_get p.bodies number)

pub seen_as : (p : ProgramForm) (number : ℕ) (b : BodyForm) → slice_get p.bodies number ≡ Some b → seen_in (Some number) p ≡ seen_by number b p
seen_as p number b is = ap (λ (found : Option BodyForm). seen_at number found p) is

-- Each body of a program frees by the instances for what it frees, where the program does (13.11.2).
own_body : (types : List TypeForm) (bs : List BodyForm) (number : ℕ) (b : BodyForm) → list_all (body_frees_own types) bs ≡ true → slice_get bs number ≡ Some b → body_frees_own types b ≡ true
own_body types [] number b own is = absurd (cc)
own_body types (c ∷ bs) zero b own is =
    let one : c ≡ b = cc in
    ap (body_frees_own types) (sym one) ∙ and_left (body_frees_own types c) (list_all (body_frees_own types) bs) own
own_body types (c ∷ bs) (suc number) b own is = own_body types bs number b (and_right (body_frees_own types c) (list_all (body_frees_own types) bs) own) is

own_at : (p : ProgramForm) → FreesItsOwn p → (number : ℕ) (found : Option BodyForm) → slice_get p.bodies number ≡ found → OwnBody (seen_at number found p)
own_at p own number None is = (own.statements, own.handlers)
own_at p own number (Some b) is =
    let whole = own_body p.types p.bodies number b own.bodies is in
    let statements = statements_free_own p.types b.variables b.statements in
    let handled = handlers_free_own p.types b.variables b.handlers in
    (and_left statements handled whole, and_right statements handled whole)

pub own_bodies : (p : ProgramForm) → FreesItsOwn p → (procedure : Option ℕ) → OwnBody (seen_in procedure p)
own_bodies p own None = (own.statements, own.handlers)
own_bodies p own (Some number) = own_at p own number (slice_get p.bodies number) refl
