-- A simple body (7.6) is frugal, whatever is known of procedures: it calls none.

use Rattle.std.proofs.Common.{◌≡◌, ℕ, Bool, true, false, ◌&&◌, List, [], ◌∷◌, drop, refl}
use Rattle.std.specs.List.{list_all}
use Rattle.std.specs.Prelude.{not, is_some, if◌then◌else◌}
use Rattle.std.proofs.lemmas.Bool.{or_left, or_right}
use Rattle.ada_program.specs.Form.{RightForm, nothing, value_of, allocates, allocates_default, computes, StmtForm, skips, assigns, assigns_record, frees, gets, writes, writes_text, chooses, repeats, counts, exits, calls, returns, raises, encloses, StmtsForm, no_stmts, a_stmt, BranchesForm, otherwise, a_branch, HandlersForm, no_handlers, a_handler, DeclarationForm, creates_pool, collects, declares, declares_record}
use Rattle.ada_program.specs.Nested.{Callees, body_nests}
use Rattle.ada_program.specs.ProgramForm.{TypeForm, BodyForm}
use Rattle.ada_program.specs.WellFormed.{finalization_of}
use Rattle.ada_quiet.specs.Apart.{is_bare_item}
use Rattle.ada_quiet.specs.Bare.{has_bare_objects}
use Rattle.ada_quiet.specs.Frugal.{Thrift, allocates_frugally, assigns_at_hand, are_frugal_declarations, is_frugal_stmt, are_frugal, are_frugal_branches, are_frugal_handlers, is_frugal_body}
use Rattle.ada_quiet.specs.Simple.{is_simple_right, are_simple_declarations, is_simple_stmt, are_simple, are_simple_branches, are_simple_handlers, is_simple_body, holds_one_value}
use Rattle.ada_typed.proofs.OfKinds.{and_both}
use Rattle.ada_scopes.proofs.Lacked.{KindsOpen}
use Rattle.ada_sound.proofs.FrugalBodies.{HasAll, calling_none, lone_nests}
use Rattle.ada_sound.proofs.Allowance.{Allowance, allocates_thriftily, may_assign, are_thrifty_declarations, is_thrifty_stmt, are_thrifty, are_thrifty_branches, are_thrifty_handlers, is_thrifty_body}
use Rattle.ada_sound.proofs.OperationStarts.{apart}

-- What is assigned has no controlled parts.
bare_assigned : (parted bare other : Bool) → (not parted && bare) ≡ true → (if parted then other else bare) ≡ true
bare_assigned true bare other is = absurd (cc is)
bare_assigned false bare other is = is

module _ (frugal : Thrift) where
  -- What it allocates is bare (4.8).
  frugal_right : (right : RightForm) → is_simple_right frugal.types right ≡ true → allocates_frugally frugal right ≡ true
  frugal_right nothing is = refl
  frugal_right (value_of path) is = refl
  frugal_right (allocates access items) is = is
  frugal_right (allocates_default access) is = refl
  frugal_right (computes e) is = refl

  -- So it is with declarations.
  frugal_declarations : (ds : List DeclarationForm) → are_simple_declarations frugal.types ds ≡ true → are_frugal_declarations frugal ds ≡ true
  frugal_declarations [] is = refl
  frugal_declarations (creates_pool p ∷ ds) is = absurd (cc is)
  frugal_declarations (collects access ∷ ds) is = absurd (cc is)
  frugal_declarations (declares x right ∷ ds) is =
      let both = apart (is_simple_right frugal.types right) (are_simple_declarations frugal.types ds) is in
      rw (frugal_right right both.0, frugal_declarations ds both.1) refl
  frugal_declarations (declares_record x t initial ∷ ds) is = absurd (cc is)

  mutual
    frugal_stmt : (f : StmtForm) → is_simple_stmt frugal.types f ≡ true → is_frugal_stmt frugal f ≡ true
    frugal_stmt skips is = refl
    frugal_stmt (assigns target right) is = frugal_right right is
    frugal_stmt (assigns_record target items) is =
        bare_assigned (is_some (finalization_of frugal.types target.record_type)) (list_all (is_bare_item frugal.types) items) (assigns_at_hand frugal target) is
    frugal_stmt (frees access path) is = refl
    frugal_stmt (gets target) is = refl
    frugal_stmt (writes e) is = refl
    frugal_stmt (writes_text text) is = refl
    frugal_stmt (chooses branches) is = frugal_branches branches is
    frugal_stmt (repeats condition fs spot) is = frugal_stmts fs is
    frugal_stmt (counts x low high fs spot) is = frugal_stmts fs is
    frugal_stmt (exits condition spot) is = refl
    frugal_stmt (calls procedure actuals) is = absurd (cc is)
    frugal_stmt (returns spot) is = refl
    frugal_stmt (raises e) is = refl
    frugal_stmt (encloses ds fs hs) is =
        let two = apart _ _ is in
        let three = apart _ _ two.0 in
        rw (frugal_declarations ds three.0, frugal_stmts fs three.1, frugal_handlers hs two.1) refl

    frugal_stmts : (fs : StmtsForm) → are_simple frugal.types fs ≡ true → are_frugal frugal fs ≡ true
    frugal_stmts no_stmts is = refl
    frugal_stmts (a_stmt f fs) is = let both = apart _ _ is in rw (frugal_stmt f both.0, frugal_stmts fs both.1) refl

    frugal_branches : (branches : BranchesForm) → are_simple_branches frugal.types branches ≡ true → are_frugal_branches frugal branches ≡ true
    frugal_branches (otherwise fs) is = frugal_stmts fs is
    frugal_branches (a_branch e fs branches) is = let both = apart _ _ is in rw (frugal_stmts fs both.0, frugal_branches branches both.1) refl

    frugal_handlers : (hs : HandlersForm) → are_simple_handlers frugal.types hs ≡ true → are_frugal_handlers frugal hs ≡ true
    frugal_handlers no_handlers is = refl
    frugal_handlers (a_handler choices fs hs) is = let both = apart _ _ is in rw (frugal_stmts fs both.0, frugal_handlers hs both.1) refl

-- So it is where bodies may allocate and free objects with controlled parts or not: it treats none.
module _ (allowance : Allowance) where
  thrifty_right : (right : RightForm) → is_simple_right allowance.types right ≡ true → allocates_thriftily allowance right ≡ true
  thrifty_right nothing is = refl
  thrifty_right (value_of path) is = refl
  thrifty_right (allocates access items) is = is
  thrifty_right (allocates_default access) is = or_right allowance.objects (has_bare_objects allowance.types access) is
  thrifty_right (computes e) is = refl

  thrifty_declarations : (ds : List DeclarationForm) → are_simple_declarations allowance.types ds ≡ true → are_thrifty_declarations allowance ds ≡ true
  thrifty_declarations [] is = refl
  thrifty_declarations (creates_pool p ∷ ds) is = absurd (cc is)
  thrifty_declarations (collects access ∷ ds) is = absurd (cc is)
  thrifty_declarations (declares x right ∷ ds) is =
      let both = apart (is_simple_right allowance.types right) (are_simple_declarations allowance.types ds) is in
      rw (thrifty_right right both.0, thrifty_declarations ds both.1) refl
  thrifty_declarations (declares_record x t initial ∷ ds) is = absurd (cc is)

  mutual
    thrifty_stmt : (f : StmtForm) → is_simple_stmt allowance.types f ≡ true → is_thrifty_stmt allowance f ≡ true
    thrifty_stmt skips is = refl
    thrifty_stmt (assigns target right) is = thrifty_right right is
    thrifty_stmt (assigns_record target items) is =
        let parted = is_some (finalization_of allowance.types target.record_type) in
        or_left (not parted) (may_assign allowance target.record_type) (apart (not parted) (list_all (is_bare_item allowance.types) items) is).0
    thrifty_stmt (frees access path) is = or_right allowance.treats_parts (has_bare_objects allowance.types access) is
    thrifty_stmt (gets target) is = refl
    thrifty_stmt (writes e) is = refl
    thrifty_stmt (writes_text text) is = refl
    thrifty_stmt (chooses branches) is = thrifty_branches branches is
    thrifty_stmt (repeats condition fs spot) is = thrifty_stmts fs is
    thrifty_stmt (counts x low high fs spot) is = thrifty_stmts fs is
    thrifty_stmt (exits condition spot) is = refl
    thrifty_stmt (calls procedure actuals) is = absurd (cc is)
    thrifty_stmt (returns spot) is = refl
    thrifty_stmt (raises e) is = refl
    thrifty_stmt (encloses ds fs hs) is =
        let two = apart _ _ is in
        let three = apart _ _ two.0 in
        rw (thrifty_declarations ds three.0, thrifty_stmts fs three.1, thrifty_handlers hs two.1) refl

    thrifty_stmts : (fs : StmtsForm) → are_simple allowance.types fs ≡ true → are_thrifty allowance fs ≡ true
    thrifty_stmts no_stmts is = refl
    thrifty_stmts (a_stmt f fs) is = let both = apart _ _ is in rw (thrifty_stmt f both.0, thrifty_stmts fs both.1) refl

    thrifty_branches : (branches : BranchesForm) → are_simple_branches allowance.types branches ≡ true → are_thrifty_branches allowance branches ≡ true
    thrifty_branches (otherwise fs) is = thrifty_stmts fs is
    thrifty_branches (a_branch e fs branches) is = let both = apart _ _ is in rw (thrifty_stmts fs both.0, thrifty_branches branches both.1) refl

    thrifty_handlers : (hs : HandlersForm) → are_simple_handlers allowance.types hs ≡ true → are_thrifty_handlers allowance hs ≡ true
    thrifty_handlers no_handlers is = refl
    thrifty_handlers (a_handler choices fs hs) is = let both = apart _ _ is in rw (thrifty_stmts fs both.0, thrifty_handlers hs both.1) refl

-- The parts of a simple body.
pub record SimpleParts (types : List TypeForm) (b : BodyForm) : Type 0 where
  pub variables : list_all (λ x. holds_one_value x.kind) (drop 1 b.variables) ≡ true
  pub declarations : are_simple_declarations types b.declarations ≡ true
  pub statements : are_simple types b.statements ≡ true
  pub handlers : are_simple_handlers types b.handlers ≡ true

pub simple_parts : (types : List TypeForm) (b : BodyForm) → is_simple_body types b ≡ true → SimpleParts types b
simple_parts types b is =
    let four = apart _ _ is in
    let three = apart _ _ four.0 in
    let two = apart _ _ three.0 in
    record { variables = two.0; declarations = two.1; statements = three.1; handlers = four.1 }

-- It is frugal.
pub simple_frugal : (frugal : Thrift) (b : BodyForm) → is_simple_body frugal.types b ≡ true → is_frugal_body frugal b ≡ true
simple_frugal frugal b is =
    let parts = simple_parts frugal.types b is in
    rw (
      frugal_declarations frugal b.declarations parts.declarations,
      frugal_stmts frugal b.statements parts.statements,
      frugal_handlers frugal b.handlers parts.handlers,
    ) refl

-- It is so where bodies allocate and free no object with controlled parts.
pub simple_thrifty : (allowance : Allowance) (b : BodyForm) → is_simple_body allowance.types b ≡ true → is_thrifty_body allowance b ≡ true
simple_thrifty allowance b is =
    let parts = simple_parts allowance.types b is in
    rw (
      thrifty_declarations allowance b.declarations parts.declarations,
      thrifty_stmts allowance b.statements parts.statements,
      thrifty_handlers allowance b.handlers parts.handlers,
    ) refl

-- It creates no collection, so it nests wherever those of all access types are open.
pub simple_nests :
    (types : List TypeForm) → KindsOpen types → (callees : Callees) (b : BodyForm) (around : List ℕ) → HasAll types around → is_simple_body types b ≡ true
    → body_nests types callees b around ≡ true
simple_nests types kinds callees b around all is = lone_nests types kinds callees b around all (simple_frugal (calling_none types) b is)
