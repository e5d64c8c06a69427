-- Statements whose values are of the kinds that they want: as what fits, but that an initial value may name any variable. Steps need no more of a body.

use Rattle.std.proofs.Common.{◌≡◌, ℕ, ◌&&◌, not, Bool, true, List, [], ◌∷◌, length, Option, Some, None, refl}
use Rattle.std.specs.List.{list_all, slice_get}
use Rattle.std.specs.Prelude.{nat_lt}
use Rattle.ada_program.specs.declared.program.ScalarType.TheVariants.{Integer, Boolean}
use Rattle.ada_program.specs.Form.{ItemForm, StmtForm, skips, assigns, assigns_record, frees, gets, writes, writes_text, chooses, repeats, counts, exits, calls, returns, raises, encloses, StmtsForm, no_stmts, a_stmt, BranchesForm, otherwise, a_branch, HandlersForm, no_handlers, a_handler, DeclarationForm, creates_pool, collects, declares, declares_record}
use Rattle.ada_program.specs.ProgramForm.{TypeForm, VariableForm}
use Rattle.ada_program.specs.WellFormed.{variable_kind, is_borrower, path_kind, path_access, names_borrower, right_fits, lends_to, names_before, item_before, is_record_object, object_fits, object_named, record_initial_fits, initial_fits, collections_first, collection_fits, declarations_fit, is_record_path, record_fits, is_freed_by, is_integer_target, has_type, has_statement, condition_fits, is_type, scalar_of, Profile, suits_profile, exception_fits, choice_fits, statement_fits, stmts_fit, branches_fit, handlers_fit}
use Rattle.ada_typed.proofs.Operators.{and_left, and_right}

-- The items of a record object's initial value, where there is one, fit its type (3.3.1).
abbrev pub record_initial_is_of_kind : List TypeForm → List VariableForm → (record_type : Option ℕ) → Option (List ItemForm) → Bool
record_initial_is_of_kind types variables t None = true
record_initial_is_of_kind types variables t (Some items) = object_fits types variables t items

-- An initial value is one that could be assigned (3.3.1), whatever it names; a record object is known by its own type.
abbrev pub initial_is_of_kind : List TypeForm → List VariableForm → DeclarationForm → Bool
initial_is_of_kind types variables (creates_pool pool) = true
initial_is_of_kind types variables (collects access) = true
initial_is_of_kind types variables (declares x right) =
    right_fits types variables (variable_kind variables x) right && lends_to variables (is_borrower variables x) right
initial_is_of_kind types variables (declares_record x object initial) =
    is_record_object object (variable_kind variables x) && record_initial_is_of_kind types variables (object_named types (Some object)) initial

-- A part creates its collections first, each of an access type, and its variables, whose initial values are of their kinds (3.11).
abbrev pub declarations_are_of_kind : List TypeForm → List VariableForm → List DeclarationForm → Bool
declarations_are_of_kind types variables ds =
    collections_first ds && list_all (collection_fits types) ds && list_all (initial_is_of_kind types variables) ds

abbrev mutual
  -- A statement that has the types that it wants, and so have those in it.
  pub statement_is_of_kind : List TypeForm → List VariableForm → (texts exceptions : List (List ℕ)) → (callable : List Profile) → (inside_loop : Bool) → StmtForm → Bool
  statement_is_of_kind types variables texts exceptions callable inside_loop skips = true
  statement_is_of_kind types variables texts exceptions callable inside_loop (assigns target right) =
      right_fits types variables (path_kind types variables target) right && lends_to variables (names_borrower variables target) right
  statement_is_of_kind types variables texts exceptions callable inside_loop (assigns_record target items) =
      is_record_path types variables target && record_fits types variables target.record_type items
  statement_is_of_kind types variables texts exceptions callable inside_loop (frees access path) =
      is_freed_by types access (path_access types variables path) && not (names_borrower variables path)
  statement_is_of_kind types variables texts exceptions callable inside_loop (gets target) = is_integer_target types variables target
  statement_is_of_kind types variables texts exceptions callable inside_loop (writes e) = has_type types variables Integer e
  statement_is_of_kind types variables texts exceptions callable inside_loop (writes_text text) = nat_lt text (length texts)
  statement_is_of_kind types variables texts exceptions callable inside_loop (chooses branches) = branches_are_of_kind types variables texts exceptions callable inside_loop branches
  statement_is_of_kind types variables texts exceptions callable inside_loop (repeats condition fs end_spot) =
      condition_fits types variables condition && has_statement fs && statements_are_of_kind types variables texts exceptions callable true fs
  statement_is_of_kind types variables texts exceptions callable inside_loop (counts x low high fs end_spot) =
      is_type Integer (scalar_of (variable_kind variables x)) && has_type types variables Integer low && has_type types variables Integer high &&
      has_statement fs && statements_are_of_kind types variables texts exceptions callable true fs
  statement_is_of_kind types variables texts exceptions callable inside_loop (exits condition spot) = inside_loop && condition_fits types variables condition
  statement_is_of_kind types variables texts exceptions callable inside_loop (calls procedure actuals) = suits_profile types variables (slice_get callable procedure) actuals
  statement_is_of_kind types variables texts exceptions callable inside_loop (returns spot) = true
  statement_is_of_kind types variables texts exceptions callable inside_loop (raises e) = exception_fits exceptions e
  statement_is_of_kind types variables texts exceptions callable inside_loop (encloses ds fs hs) =
      declarations_are_of_kind types variables ds && statements_are_of_kind types variables texts exceptions callable inside_loop fs &&
      handlers_are_of_kind types variables texts exceptions callable inside_loop hs

  -- Statements, in order.
  pub statements_are_of_kind : List TypeForm → List VariableForm → (texts exceptions : List (List ℕ)) → (callable : List Profile) → (inside_loop : Bool) → StmtsForm → Bool
  statements_are_of_kind types variables texts exceptions callable inside_loop no_stmts = true
  statements_are_of_kind types variables texts exceptions callable inside_loop (a_stmt f fs) =
      statement_is_of_kind types variables texts exceptions callable inside_loop f && statements_are_of_kind types variables texts exceptions callable inside_loop fs

  -- Branches, each with a condition (5.3).
  pub branches_are_of_kind : List TypeForm → List VariableForm → (texts exceptions : List (List ℕ)) → (callable : List Profile) → (inside_loop : Bool) → BranchesForm → Bool
  branches_are_of_kind types variables texts exceptions callable inside_loop (otherwise fs) = statements_are_of_kind types variables texts exceptions callable inside_loop fs
  branches_are_of_kind types variables texts exceptions callable inside_loop (a_branch e fs branches) =
      has_type types variables Boolean e && statements_are_of_kind types variables texts exceptions callable inside_loop fs &&
      branches_are_of_kind types variables texts exceptions callable inside_loop branches

  -- Handlers, each of exceptions of the program, and with a statement (11.2).
  pub handlers_are_of_kind : List TypeForm → List VariableForm → (texts exceptions : List (List ℕ)) → (callable : List Profile) → (inside_loop : Bool) → HandlersForm → Bool
  handlers_are_of_kind types variables texts exceptions callable inside_loop no_handlers = true
  handlers_are_of_kind types variables texts exceptions callable inside_loop (a_handler choices fs hs) =
      list_all (choice_fits exceptions) choices && has_statement fs && statements_are_of_kind types variables texts exceptions callable inside_loop fs &&
      handlers_are_of_kind types variables texts exceptions callable inside_loop hs

-- Both of two tests hold.
pub and_both : (a b : Bool) → a ≡ true → b ≡ true → (a && b) ≡ true
and_both a b h g = cc (h, g)

-- What fits is of the kinds that are wanted.
module _ (types : List TypeForm) (variables : List VariableForm) where
  record_initial_weaker : (x : ℕ) (t : Option ℕ) (initial : Option (List ItemForm)) → record_initial_fits types variables x t initial ≡ true → record_initial_is_of_kind types variables t initial ≡ true
  record_initial_weaker x t None h = refl
  record_initial_weaker x t (Some items) h = and_right (list_all (item_before x) items) (object_fits types variables t items) h

  initial_weaker : (d : DeclarationForm) → initial_fits types variables d ≡ true → initial_is_of_kind types variables d ≡ true
  initial_weaker (creates_pool pool) h = refl
  initial_weaker (collects access) h = refl
  initial_weaker (declares x right) h =
      let early = names_before x right in
      let fitting = right_fits types variables (variable_kind variables x) right in
      let lending = lends_to variables (is_borrower variables x) right in
      and_both fitting lending (and_right early fitting (and_left (early && fitting) lending h)) (and_right (early && fitting) lending h)
  initial_weaker (declares_record x object initial) h =
      let own = is_record_object object (variable_kind variables x) in
      let t = object_named types (Some object) in
      let fitting = record_initial_fits types variables x t initial in
      and_both own (record_initial_is_of_kind types variables t initial) (and_left own fitting h) (record_initial_weaker x t initial (and_right own fitting h))

  pub initials_weaker : (ds : List DeclarationForm) → list_all (initial_fits types variables) ds ≡ true → list_all (initial_is_of_kind types variables) ds ≡ true
  initials_weaker [] h = refl
  initials_weaker (d ∷ ds) h =
      let here = initial_fits types variables d in
      let later = list_all (initial_fits types variables) ds in
      and_both (initial_is_of_kind types variables d) (list_all (initial_is_of_kind types variables) ds) (initial_weaker d (and_left here later h)) (initials_weaker ds (and_right here later h))

  declarations_weaker : (ds : List DeclarationForm) → declarations_fit types variables ds ≡ true → declarations_are_of_kind types variables ds ≡ true
  declarations_weaker ds h =
      let before = collections_first ds && list_all (collection_fits types) ds in
      let initials = list_all (initial_fits types variables) ds in
      and_both before (list_all (initial_is_of_kind types variables) ds) (and_left before initials h) (initials_weaker ds (and_right before initials h))

  module _ (texts exceptions : List (List ℕ)) (callable : List Profile) where
    mutual
      statement_weaker : (inside : Bool) (f : StmtForm) → statement_fits types variables texts exceptions callable inside f ≡ true → statement_is_of_kind types variables texts exceptions callable inside f ≡ true
      statement_weaker inside skips h = refl
      statement_weaker inside (assigns target right) h = h
      statement_weaker inside (assigns_record target items) h = h
      statement_weaker inside (frees access path) h = h
      statement_weaker inside (gets target) h = h
      statement_weaker inside (writes e) h = h
      statement_weaker inside (writes_text text) h = h
      statement_weaker inside (chooses branches) h = branches_weaker inside branches h
      statement_weaker inside (repeats condition fs end_spot) h =
          let before = condition_fits types variables condition && has_statement fs in
          let inner = stmts_fit types variables texts exceptions callable true fs in
          and_both before (statements_are_of_kind types variables texts exceptions callable true fs) (and_left before inner h) (statements_weaker true fs (and_right before inner h))
      statement_weaker inside (counts x low high fs end_spot) h =
          let before = is_type Integer (scalar_of (variable_kind variables x)) && has_type types variables Integer low && has_type types variables Integer high && has_statement fs in
          let inner = stmts_fit types variables texts exceptions callable true fs in
          and_both before (statements_are_of_kind types variables texts exceptions callable true fs) (and_left before inner h) (statements_weaker true fs (and_right before inner h))
      statement_weaker inside (exits condition spot) h = h
      statement_weaker inside (calls procedure actuals) h = h
      statement_weaker inside (returns spot) h = refl
      statement_weaker inside (raises e) h = h
      statement_weaker inside (encloses ds fs hs) h =
          let own = declarations_fit types variables ds in
          let inner = stmts_fit types variables texts exceptions callable inside fs in
          let handled = handlers_fit types variables texts exceptions callable inside hs in
          let former = and_left (own && inner) handled h in
          and_both (declarations_are_of_kind types variables ds && statements_are_of_kind types variables texts exceptions callable inside fs) (handlers_are_of_kind types variables texts exceptions callable inside hs)
          (and_both (declarations_are_of_kind types variables ds) (statements_are_of_kind types variables texts exceptions callable inside fs) (declarations_weaker ds (and_left own inner former)) (statements_weaker inside fs (and_right own inner former)))
          (handlers_weaker inside hs (and_right (own && inner) handled h))

      pub statements_weaker : (inside : Bool) (fs : StmtsForm) → stmts_fit types variables texts exceptions callable inside fs ≡ true → statements_are_of_kind types variables texts exceptions callable inside fs ≡ true
      statements_weaker inside no_stmts h = refl
      statements_weaker inside (a_stmt f fs) h =
          let here = statement_fits types variables texts exceptions callable inside f in
          let later = stmts_fit types variables texts exceptions callable inside fs in
          and_both (statement_is_of_kind types variables texts exceptions callable inside f) (statements_are_of_kind types variables texts exceptions callable inside fs) (statement_weaker inside f (and_left here later h)) (statements_weaker inside fs (and_right here later h))

      branches_weaker : (inside : Bool) (branches : BranchesForm) → branches_fit types variables texts exceptions callable inside branches ≡ true → branches_are_of_kind types variables texts exceptions callable inside branches ≡ true
      branches_weaker inside (otherwise fs) h = statements_weaker inside fs h
      branches_weaker inside (a_branch e fs branches) h =
          let own = has_type types variables Boolean e in
          let inner = stmts_fit types variables texts exceptions callable inside fs in
          let others = branches_fit types variables texts exceptions callable inside branches in
          let former = and_left (own && inner) others h in
          and_both (own && statements_are_of_kind types variables texts exceptions callable inside fs) (branches_are_of_kind types variables texts exceptions callable inside branches)
          (and_both own (statements_are_of_kind types variables texts exceptions callable inside fs) (and_left own inner former) (statements_weaker inside fs (and_right own inner former)))
          (branches_weaker inside branches (and_right (own && inner) others h))

      pub handlers_weaker : (inside : Bool) (hs : HandlersForm) → handlers_fit types variables texts exceptions callable inside hs ≡ true → handlers_are_of_kind types variables texts exceptions callable inside hs ≡ true
      handlers_weaker inside no_handlers h = refl
      handlers_weaker inside (a_handler choices fs hs) h =
          let own = list_all (choice_fits exceptions) choices && has_statement fs in
          let inner = stmts_fit types variables texts exceptions callable inside fs in
          let others = handlers_fit types variables texts exceptions callable inside hs in
          let former = and_left (own && inner) others h in
          and_both (own && statements_are_of_kind types variables texts exceptions callable inside fs) (handlers_are_of_kind types variables texts exceptions callable inside hs)
          (and_both own (statements_are_of_kind types variables texts exceptions callable inside fs) (and_left own inner former) (statements_weaker inside fs (and_right own inner former)))
          (handlers_weaker inside hs (and_right (own && inner) others h))
