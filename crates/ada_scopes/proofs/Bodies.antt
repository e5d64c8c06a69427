-- What the bodies of procedures create nests wherever the text calls them, and so does all that a program creates.

use Rattle.std.proofs.Common.{◌≡◌, ℕ, zero, suc, ◌+◌, ◌&&◌, Bool, true, false, List, [], ◌∷◌, ◌++◌, length, map, Option, Some, None, arith, refl, subst, length-append}
use Rattle.std.specs.List.{slice_get, list_all}
use Rattle.ada_program.specs.ProgramForm.{TypeForm, BodyForm, ProgramForm}
use Rattle.ada_program.specs.WellFormed.{IsWellFormed, Profile, creation, created_by_all, created_by_handlers, created_in, creations, created_in_all, creates_from, collections_first, collection_fits, variable_fits, initial_fits, declarations_fit, profile_of, callable_in, stmts_fit, handlers_fit, body_fits, bodies_fit}
use Rattle.ada_program.specs.Nested.{Callees, call_nests, collected, part_nests, statements_nest, handlers_nest, body_nests, callees_from, callees_of, CollectionsNest}
use Rattle.ada_scopes.proofs.Counts.{and_left, and_right}
use Rattle.ada_scopes.proofs.Texts.{PartNests, StatementsNest, HandlersNest, BodyNests, BodiesNest, CallsNest, Once, once_left, once_right, all_once, part_holds, statements_hold, handlers_hold}

-- The callees of a program are those of its procedures, in order.
get_before : {X : Type 0} (xs ys : List X) (i : ℕ) (x : X) → slice_get xs i ≡ Some x → slice_get (xs ++ ys) i ≡ Some x
get_before [] ys i x is = absurd (cc)
get_before (z ∷ xs) ys zero x is = is
get_before (z ∷ xs) ys (suc i) x is = get_before xs ys i x is

get_last : {X : Type 0} (xs : List X) (y : X) → slice_get (xs ++ y ∷ []) (length xs) ≡ Some y
get_last [] y = refl
get_last (x ∷ xs) y = get_last xs y

got_from : (types : List TypeForm) (before : Callees) (bs : List BodyForm) (i : ℕ) (nests : List ℕ → Bool) → slice_get before i ≡ Some nests → slice_get (callees_from types before bs) i ≡ Some nests
got_from types before [] i nests is = is
got_from types before (b ∷ bs) i nests is =
    got_from types (before ++ body_nests types before b ∷ []) bs i nests (get_before before (body_nests types before b ∷ []) i nests is)

more_from : (types : List TypeForm) (before : Callees) (bs : List BodyForm) → CallsNest before (callees_from types before bs)
more_from types before bs procedure around nests = go (slice_get before procedure) refl
  where
    go : (found : Option (List ℕ → Bool)) → slice_get before procedure ≡ found → call_nests (slice_get (callees_from types before bs) procedure) around ≡ true
    go None is = let none : call_nests None around ≡ true = rw is at nests in absurd (cc)
    go (Some f) is =
        let own : call_nests (Some f) around ≡ true = rw is at nests in
        rw (got_from types before bs procedure f is) own

-- A body nests where it is called, as it is checked.
body_holds : (types : List TypeForm) (texts exceptions : List (List ℕ)) (callable : List Profile) (before callees : Callees) (b : BodyForm) (around : List ℕ) → CallsNest before callees → body_fits types texts exceptions callable b ≡ true → Once types (created_in b) → body_nests types before b around ≡ true → BodyNests types callees around b
body_holds types texts exceptions callable before callees b around more fits once nests =
    let ds = b.declarations in
    let there = collected ds ++ around in
    let variables_right = list_all (variable_fits types) b.variables in
    let in_order = creates_from (length b.variables) (length b.formals) (created_in b) in
    let part_fits = declarations_fit types b.variables ds in
    let inner_fits = stmts_fit types b.variables texts exceptions callable false b.statements in
    let handled_fits = handlers_fit types b.variables texts exceptions callable false b.handlers in
    let fit_four = and_left (variables_right && in_order && part_fits && inner_fits) handled_fits fits in
    let fit_three = and_left (variables_right && in_order && part_fits) inner_fits fit_four in
    let fit_two = and_left (variables_right && in_order) part_fits fit_three in
    let right = and_left variables_right in_order fit_two in
    let own_fits = and_right (variables_right && in_order) part_fits fit_three in
    let first = collections_first ds in
    let fitting = list_all (collection_fits types) ds in
    let initials = list_all (initial_fits types b.variables) ds in
    let leading = and_left (first && fitting) initials own_fits in
    let part = part_nests types around ds in
    let inner = statements_nest types before there b.statements in
    let handled = handlers_nest types before there b.handlers in
    let first_two = and_left (part && inner) handled nests in
    let creates = once_left types (map creation ds ++ created_by_all b.statements) (created_by_handlers b.handlers) once in
    record {
      part = part_holds types b.variables around ds right (and_left first fitting leading) (and_right first fitting leading)
          (and_right (first && fitting) initials own_fits) (once_left types (map creation ds) (created_by_all b.statements) creates) (and_left part inner first_two);
      statements = statements_hold types b.variables texts exceptions callable right before callees more b.statements false there
          (and_right (variables_right && in_order && part_fits) inner_fits fit_four) (once_right types (map creation ds) (created_by_all b.statements) creates)
          (and_right part inner first_two);
      handlers = handlers_hold types b.variables texts exceptions callable right before callees more b.handlers false there
          (and_right (variables_right && in_order && part_fits && inner_fits) handled_fits fits)
          (once_right types (map creation ds ++ created_by_all b.statements) (created_by_handlers b.handlers) once) (and_right (part && inner) handled nests);
    }

bodies_hold : (types : List TypeForm) (texts exceptions : List (List ℕ)) (callable : List Profile) (before : Callees) (bs : List BodyForm) → bodies_fit types texts exceptions callable bs ≡ true → Once types (created_in_all bs) → (i : ℕ) (b : BodyForm) (around : List ℕ) → slice_get bs i ≡ Some b → call_nests (slice_get (callees_from types before bs) (length before + i)) around ≡ true → BodyNests types (callees_from types before bs) around b
bodies_hold types texts exceptions callable before [] fits once i b around is nests = absurd (cc)
bodies_hold types texts exceptions callable before (x ∷ bs) fits once zero b around is nests =
    let own = body_nests types before x in
    let all = callees_from types before (x ∷ bs) in
    let found : slice_get all (length before) ≡ Some own = got_from types (before ++ own ∷ []) bs (length before) own (get_last before own) in
    let last : length before + 0 ≡ length before = omega arith in
    let at_last : call_nests (slice_get all (length before)) around ≡ true = subst (λ (n : ℕ). call_nests (slice_get all n) around ≡ true) last nests in
    let here : own around ≡ true = rw found at at_last in
    let same : x ≡ b = cc in
    subst (λ (y : BodyForm). BodyNests types all around y) same
    (body_holds types texts exceptions callable before all x around (more_from types before (x ∷ bs))
    (and_left (body_fits types texts exceptions callable x) (bodies_fit types texts exceptions (callable ++ profile_of x ∷ []) bs) fits)
    (once_left types (created_in x) (created_in_all bs) once) here)
bodies_hold types texts exceptions callable before (x ∷ bs) fits once (suc i) b around is nests =
    let own = body_nests types before x in
    let all = callees_from types before (x ∷ bs) in
    let more = length-append before (own ∷ []) in
    let same : length before + suc i ≡ length (before ++ own ∷ []) + i = omega (arith, more) in
    bodies_hold types texts exceptions (callable ++ profile_of x ∷ []) (before ++ own ∷ []) bs
    (and_right (body_fits types texts exceptions callable x) (bodies_fit types texts exceptions (callable ++ profile_of x ∷ []) bs) fits)
    (once_right types (created_in x) (created_in_all bs) once) i b around is
    (subst (λ (n : ℕ). call_nests (slice_get all n) around ≡ true) same nests)

-- The declarations, the statements and the handlers of a program, and the bodies of its procedures.
pub record ProgramNests (p : ProgramForm) : Type 0 where
  pub part : PartNests p.types [] p.declarations
  pub statements : StatementsNest p.types (callees_of p) (collected p.declarations) p.statements
  pub handlers : HandlersNest p.types (callees_of p) (collected p.declarations) p.handlers
  pub bodies : BodiesNest p.types (callees_of p) p.bodies

pub program_nests : (p : ProgramForm) → IsWellFormed p → CollectionsNest p → ProgramNests p
program_nests p well nest =
    let all = all_once p well in
    let once = once_right p.types (created_in_all p.bodies) (creations p) all in
    let before = once_left p.types (map creation p.declarations ++ created_by_all p.statements) (created_by_handlers p.handlers) once in
    let callees = callees_of p in
    let same : CallsNest callees callees = λ procedure around nests. nests in
    record {
      part = part_holds p.types p.variables [] p.declarations well.variables_fit well.collections_first well.collections_fit well.initials_fit
          (once_left p.types (map creation p.declarations) (created_by_all p.statements) before) nest.declarations;
      statements = statements_hold p.types p.variables p.texts p.exceptions (callable_in p) well.variables_fit callees callees same p.statements false
          (collected p.declarations) well.statements_fit
          (once_right p.types (map creation p.declarations) (created_by_all p.statements) before) nest.statements;
      handlers = handlers_hold p.types p.variables p.texts p.exceptions (callable_in p) well.variables_fit callees callees same p.handlers false
          (collected p.declarations) well.handlers_fit
          (once_right p.types (map creation p.declarations ++ created_by_all p.statements) (created_by_handlers p.handlers) once) nest.handlers;
      bodies = λ procedure b around is nests.
          let at_it : procedure ≡ 0 + procedure = omega arith in
          bodies_hold p.types p.texts p.exceptions [] [] p.bodies well.bodies_fit
          (once_left p.types (created_in_all p.bodies) (creations p) all) procedure b around is
          (subst (λ (n : ℕ). call_nests (slice_get callees n) around ≡ true) at_it nests);
    }
