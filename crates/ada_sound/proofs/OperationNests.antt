-- What the frugal bodies of operations create nests wherever the collections of all access types are open (7.6, 7.6.1, 3.10.2): they call procedures before
-- them alone (6.4).

use Rattle.std.proofs.Common.{◌≡◌, ℕ, zero, suc, ◌+◌, ◌<◌, Bool, true, false, List, [], ◌∷◌, ◌++◌, length, map, take, refl, ap, subst, arith}
use Rattle.std.specs.List.{slice_get, slice_index_or}
use Rattle.std.specs.Prelude.{Option, Some}
use Rattle.ada_deeds.proofs.RaisesKnown.{is_callable}
use Rattle.ada_program.specs.Form.{StmtForm, skips, assigns, assigns_record, frees, gets, writes, writes_text, chooses, repeats, counts, exits, calls, returns, raises, encloses, StmtsForm, no_stmts, a_stmt, BranchesForm, otherwise, a_branch, HandlersForm, no_handlers, a_handler}
use Rattle.ada_program.specs.Nested.{Callees, collected, call_nests, statement_nests, statements_nest, branches_nest, handlers_nest, body_nests, callees_from, callees_of}
use Rattle.ada_program.specs.ProgramForm.{TypeForm, BodyForm, ProgramForm, VariableForm}
use Rattle.ada_program.specs.WellFormed.{IsWellFormed, Profile, body_fits, profile_of, statement_fits, stmts_fit, branches_fit, handlers_fit}
use Rattle.ada_quiet.proofs.FrugalAt.{operation_at}
use Rattle.ada_quiet.specs.Frugal.{is_frugal_stmt, are_frugal, are_frugal_branches, are_frugal_handlers, is_frugal_body, Thrift, frugal_operations, frugal_procedures, thrift_of}
use Rattle.ada_scopes.proofs.Lacked.{KindsOpen, kinds_open}
use Rattle.ada_sound.proofs.FrugalBodies.{HasAll, frugal_parts, frugal_nests, more_open, part_is}
use Rattle.ada_sound.proofs.OperationStarts.{apart}
use Rattle.ada_typed.proofs.Bodies.{body_at}

-- There is a procedure that is told to be frugal as an operation.
operation_there : (p : ProgramForm) (number : ℕ) → slice_index_or (frugal_operations p) number false ≡ true → (b : BodyForm) × (slice_get p.bodies number ≡ Some b)
operation_there p number told = by p.bodies number told
  where
    by : (bs : List BodyForm) (n : ℕ) → slice_index_or (map (is_frugal_body (thrift_of p)) bs) n false ≡ true → (b : BodyForm) × (slice_get bs n ≡ Some b)
    by [] n told' = absurd (cc told')
    by (c ∷ bs) zero told' = (c, refl)
    by (c ∷ bs) (suc n) told' = by bs n told'

module _ (frugal : Thrift) (kinds : KindsOpen frugal.types) (callees : Callees) (texts exceptions : List (List ℕ)) (callable : List Profile) (variables : List VariableForm)
    (nest : (number : ℕ) → slice_index_or frugal.procedures number false ≡ true → number < length callable → (around : List ℕ) → HasAll frugal.types around
    → call_nests (slice_get callees number) around ≡ true) where
  mutual
    stmt_is : (inside : Bool) (around : List ℕ) → HasAll frugal.types around → (f : StmtForm) → is_frugal_stmt frugal f ≡ true
        → statement_fits frugal.types variables texts exceptions callable inside f ≡ true → statement_nests frugal.types callees around f ≡ true
    stmt_is inside around all skips is fits = refl
    stmt_is inside around all (assigns target right) is fits = refl
    stmt_is inside around all (assigns_record target items) is fits = refl
    stmt_is inside around all (frees access path) is fits = refl
    stmt_is inside around all (gets target) is fits = refl
    stmt_is inside around all (writes e) is fits = refl
    stmt_is inside around all (writes_text text) is fits = refl
    stmt_is inside around all (chooses branches) is fits = branches_are inside around all branches is fits
    stmt_is inside around all (repeats condition fs spot) is fits = stmts_are true around all fs is (apart _ _ fits).1
    stmt_is inside around all (counts x low high fs spot) is fits = stmts_are true around all fs is (apart _ _ fits).1
    stmt_is inside around all (exits condition spot) is fits = refl
    stmt_is inside around all (calls procedure actuals) is fits =
        nest procedure is (is_callable frugal.types variables callable procedure actuals (slice_get callable procedure) refl fits) around all
    stmt_is inside around all (returns spot) is fits = refl
    stmt_is inside around all (raises e) is fits = refl
    stmt_is inside around all (encloses ds fs hs) is fits =
        let two = apart _ _ is in
        let three = apart _ _ two.0 in
        let fits_two = apart _ _ fits in
        let fits_three = apart _ _ fits_two.0 in
        let within = more_open frugal.types (collected ds) around all in
        rw (
          part_is frugal kinds around all ds three.0,
          stmts_are inside (collected ds ++ around) within fs three.1 fits_three.1,
          handlers_are inside (collected ds ++ around) within hs two.1 fits_two.1,
        ) refl

    stmts_are : (inside : Bool) (around : List ℕ) → HasAll frugal.types around → (fs : StmtsForm) → are_frugal frugal fs ≡ true
        → stmts_fit frugal.types variables texts exceptions callable inside fs ≡ true → statements_nest frugal.types callees around fs ≡ true
    stmts_are inside around all no_stmts is fits = refl
    stmts_are inside around all (a_stmt f fs) is fits =
        let both = apart _ _ is in
        let fit = apart _ _ fits in
        rw (stmt_is inside around all f both.0 fit.0, stmts_are inside around all fs both.1 fit.1) refl

    branches_are : (inside : Bool) (around : List ℕ) → HasAll frugal.types around → (branches : BranchesForm) → are_frugal_branches frugal branches ≡ true
        → branches_fit frugal.types variables texts exceptions callable inside branches ≡ true → branches_nest frugal.types callees around branches ≡ true
    branches_are inside around all (otherwise fs) is fits = stmts_are inside around all fs is fits
    branches_are inside around all (a_branch e fs branches) is fits =
        let both = apart _ _ is in
        let fit = apart _ _ fits in
        let first = apart _ _ fit.0 in
        rw (stmts_are inside around all fs both.0 first.1, branches_are inside around all branches both.1 fit.1) refl

    handlers_are : (inside : Bool) (around : List ℕ) → HasAll frugal.types around → (hs : HandlersForm) → are_frugal_handlers frugal hs ≡ true
        → handlers_fit frugal.types variables texts exceptions callable inside hs ≡ true → handlers_nest frugal.types callees around hs ≡ true
    handlers_are inside around all no_handlers is fits = refl
    handlers_are inside around all (a_handler choices fs hs) is fits =
        let both = apart _ _ is in
        let fit = apart _ _ fits in
        let first = apart _ _ fit.0 in
        rw (stmts_are inside around all fs both.0 first.1, handlers_are inside around all hs both.1 fit.1) refl

-- What calls of the first procedures create stays among what calls of all of them do.
more_there : (xs ys : Callees) (j : ℕ) (x : List ℕ → Bool) → slice_get xs j ≡ Some x → slice_get (xs ++ ys) j ≡ Some x
more_there [] ys j x at = absurd (cc at)
more_there (z ∷ zs) ys zero x at = at
more_there (z ∷ zs) ys (suc j) x at = more_there zs ys j x at

last_there : (xs : Callees) (y : List ℕ → Bool) → slice_get (xs ++ y ∷ []) (length xs) ≡ Some y
last_there [] y = refl
last_there (x ∷ xs) y = last_there xs y

one_longer : (xs : Callees) (y : List ℕ → Bool) → length (xs ++ y ∷ []) ≡ suc (length xs)
one_longer [] y = refl
one_longer (x ∷ xs) y = ap suc (one_longer xs y)

got : (xs : Callees) (j : ℕ) → j < length xs → (x : List ℕ → Bool) × (slice_get xs j ≡ Some x)
got [] j less = absurd (omega (arith, less))
got (x ∷ xs) zero less = (x, refl)
got (x ∷ xs) (suc j) less = got xs j (omega (arith, less))

module _ (types : List TypeForm) where
  kept_there : (before : Callees) (bs : List BodyForm) (j : ℕ) (x : List ℕ → Bool) → slice_get before j ≡ Some x → slice_get (callees_from types before bs) j ≡ Some x
  kept_there before [] j x at = at
  kept_there before (b ∷ bs) j x at = kept_there (before ++ body_nests types before b ∷ []) bs j x (more_there before (body_nests types before b ∷ []) j x at)

  -- What is known of a body is so by the procedures before it.
  record Before (before : Callees) (bs : List BodyForm) (number : ℕ) (b : BodyForm) : Type 0 where
    first : Callees
    count : length first ≡ number
    kept : (j : ℕ) (x : List ℕ → Bool) → slice_get first j ≡ Some x → slice_get (callees_from types before bs) j ≡ Some x
    is : slice_get (callees_from types before bs) number ≡ Some (body_nests types first b)

  before_is : (before : Callees) (bs : List BodyForm) (i number : ℕ) (b : BodyForm) → number ≡ i + length before → slice_get bs i ≡ Some b → Before before bs number b
  before_is before [] i number b place there = absurd (cc there)
  before_is before (c ∷ bs) zero number b place there =
      let same : c ≡ b = cc there in
      let count : length before ≡ number = omega (arith, place) in
      let more = before ++ body_nests types before c ∷ [] in
      record {
        first = before;
        count = count;
        kept = λ j x at. kept_there before (c ∷ bs) j x at;
        is = subst (λ (d : BodyForm). slice_get (callees_from types more bs) number ≡ Some (body_nests types before d)) same
            (subst (λ (n : ℕ). slice_get (callees_from types more bs) n ≡ Some (body_nests types before c)) count
            (kept_there more bs (length before) (body_nests types before c) (last_there before (body_nests types before c))));
      }
  before_is before (c ∷ bs) (suc i) number b place there =
      let more = before ++ body_nests types before c ∷ [] in
      let longer = one_longer before (body_nests types before c) in
      let later = before_is more bs i number b (omega (arith, place, longer)) there in
      record { first = later.first; count = later.count; kept = later.kept; is = later.is }

-- The profiles of the first procedures are no more than these.
take_short : (bs : List BodyForm) (number : ℕ) → (j : ℕ) → j < length (map profile_of (take number bs)) → j < number
take_short bs zero j less = less
take_short [] (suc n) j less = absurd (omega (arith, less))
take_short (b ∷ bs) (suc n) zero less = omega arith
take_short (b ∷ bs) (suc n) (suc j) less = let shorter = take_short bs n j (omega (arith, less)) in omega (arith, shorter)

-- The statements and the handlers of a body fit.
fits_parts : (types : List TypeForm) (texts exceptions : List (List ℕ)) (callable : List Profile) (b : BodyForm) → body_fits types texts exceptions callable b ≡ true
    → (stmts_fit types b.variables texts exceptions callable false b.statements ≡ true) × (handlers_fit types b.variables texts exceptions callable false b.handlers ≡ true)
fits_parts types texts exceptions callable b fits =
    let five = apart _ _ fits in
    let four = apart _ _ five.0 in
    (four.1, five.1)

-- The body of a frugal operation nests wherever the collections of all access types are open.
pub operation_nests : (p : ProgramForm) → IsWellFormed p → (number : ℕ) → slice_index_or (frugal_operations p) number false ≡ true → (around : List ℕ)
    → HasAll p.types around → call_nests (slice_get (callees_of p) number) around ≡ true
operation_nests p well number told around all =
    let found = operation_there p number told in
    let b = found.0 in
    let frugal = operation_at p number b told found.1 in
    let before = before_is p.types [] p.bodies number number b (omega arith) found.1 in
    let fits = body_at p.types p.texts p.exceptions [] p.bodies number b well.bodies_fit found.1 in
    rw (before.is) (body_is b before.first before.count before.kept frugal fits)
  where
    body_is : (b : BodyForm) (first : Callees) → length first ≡ number → ((j : ℕ) (x : List ℕ → Bool) → slice_get first j ≡ Some x → slice_get (callees_of p) j ≡ Some x)
        → is_frugal_body (thrift_of p) b ≡ true → body_fits p.types p.texts p.exceptions ([] ++ map profile_of (take number p.bodies)) b ≡ true
        → body_nests p.types first b around ≡ true
    body_is b first count kept frugal fits =
        let callable = [] ++ map profile_of (take number p.bodies) in
        let three = frugal_parts (thrift_of p) b frugal in
        let inside = more_open p.types (collected b.declarations) around all in
        let both = fits_parts p.types p.texts p.exceptions callable b fits in
        rw (
          part_is (thrift_of p) (kinds_open p well) around all b.declarations three.0,
          stmts_are (thrift_of p) (kinds_open p well) first p.texts p.exceptions callable b.variables
              (λ m is below wide open_there. called first count kept m is (take_short p.bodies number m below) wide open_there)
              false (collected b.declarations ++ around) inside b.statements three.1 both.0,
          handlers_are (thrift_of p) (kinds_open p well) first p.texts p.exceptions callable b.variables
              (λ m is below wide open_there. called first count kept m is (take_short p.bodies number m below) wide open_there)
              false (collected b.declarations ++ around) inside b.handlers three.2 both.1,
        ) refl
      where
        called : (firsts : Callees) → length firsts ≡ number → ((j : ℕ) (x : List ℕ → Bool) → slice_get firsts j ≡ Some x → slice_get (callees_of p) j ≡ Some x)
            → (m : ℕ) → slice_index_or (frugal_procedures p) m false ≡ true → m < number → (wide : List ℕ) → HasAll p.types wide
            → call_nests (slice_get firsts m) wide ≡ true
        called firsts counted keeps m is below wide open_there =
            let one = got firsts m (omega (arith, below, counted)) in
            let whole = frugal_nests p (kinds_open p well) m is wide open_there in
            rw (one.1) (subst (λ (o : Option (List ℕ → Bool)). call_nests o wide ≡ true) (keeps m one.0 one.1) whole)
