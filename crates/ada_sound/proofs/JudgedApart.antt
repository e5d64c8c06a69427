-- The forms of a body that tracks components of its formal parameter (7.6) call no procedure that tracks, as they are judged, where they call none as they are;
-- and no allocator of theirs with items makes an object with controlled parts, or copies a record with some (4.8).

use Rattle.std.proofs.Common.{◌≡◌, ℕ, Bool, true, ◌&&◌, List, [], ◌∷◌, refl, ap, ◌∙◌}
use Rattle.std.specs.List.{list_all}
use Rattle.ada_flow.specs.Tracking.{Tracks}
use Rattle.ada_program.specs.Form.{ItemForm, null_item, item_of_path, item_of_value, item_of_record, RightForm, nothing, value_of, allocates, allocates_default, computes, StmtForm, skips, assigns, assigns_record, frees, gets, writes, writes_text, chooses, repeats, counts, exits, calls, returns, raises, encloses, StmtsForm, no_stmts, a_stmt, BranchesForm, otherwise, a_branch, HandlersForm, no_handlers, a_handler, DeclarationForm, creates_pool, collects, declares, declares_record}
use Rattle.ada_program.specs.ProgramForm.{TypeForm, BodyForm}
use Rattle.ada_quiet.specs.Apart.{is_bare_item, is_bare_right, declares_apart, declare_apart, calls_apart, all_call_apart, branches_call_apart, handlers_call_apart, body_calls_apart}
use Rattle.ada_quiet.specs.Bare.{has_bare_objects}
use Rattle.ada_sound.proofs.CallsApart.{ElaboratesApart, elaborates_apart}
use Rattle.ada_tracked.specs.Forms.{seen_item, seen_items, seen_right, seen_declaration, seen_declarations, seen_stmt, seen_stmts, seen_branches, seen_handlers}

module _ (types : List TypeForm) (tracks : Tracks) where
  item_same : (i : ItemForm) → is_bare_item types (seen_item tracks i) ≡ is_bare_item types i
  item_same null_item = refl
  item_same (item_of_path path) = refl
  item_same (item_of_value e) = refl
  item_same (item_of_record path) = refl

  items_same : (items : List ItemForm) → list_all (is_bare_item types) (seen_items tracks items) ≡ list_all (is_bare_item types) items
  items_same [] = refl
  items_same (i ∷ items) = rw (item_same i, items_same items) refl

  -- Allocators copy the same.
  right_same : (right : RightForm) → is_bare_right types (seen_right tracks right) ≡ is_bare_right types right
  right_same nothing = refl
  right_same (value_of path) = refl
  right_same (allocates access items) = ap (λ (b : Bool). has_bare_objects types access && b) (items_same items)
  right_same (allocates_default access) = refl
  right_same (computes e) = refl

  declaration_same : (d : DeclarationForm) → declares_apart types (seen_declaration tracks d) ≡ declares_apart types d
  declaration_same (creates_pool pool) = refl
  declaration_same (collects access) = refl
  declaration_same (declares x right) = right_same right
  declaration_same (declares_record x t initial) = refl

  declarations_same : (ds : List DeclarationForm) → declare_apart types (seen_declarations tracks ds) ≡ declare_apart types ds
  declarations_same [] = refl
  declarations_same (d ∷ ds) = rw (declaration_same d, declarations_same ds) refl

  -- Statements call the same.
  module _ (apart : ℕ → Bool) where
    mutual
      stmt_same : (f : StmtForm) → calls_apart types apart (seen_stmt tracks f) ≡ calls_apart types apart f
      stmt_same skips = refl
      stmt_same (assigns target right) = rw (right_same right) refl
      stmt_same (assigns_record target items) = refl
      stmt_same (frees access path) = refl
      stmt_same (gets target) = refl
      stmt_same (writes e) = refl
      stmt_same (writes_text text) = refl
      stmt_same (chooses branches) = branches_same branches
      stmt_same (repeats condition fs spot) = stmts_same fs
      stmt_same (counts x low high fs spot) = stmts_same fs
      stmt_same (exits condition spot) = refl
      stmt_same (calls procedure actuals) = refl
      stmt_same (returns spot) = refl
      stmt_same (raises e) = refl
      stmt_same (encloses ds fs hs) = rw (declarations_same ds, stmts_same fs, handlers_same hs) refl

      stmts_same : (fs : StmtsForm) → all_call_apart types apart (seen_stmts tracks fs) ≡ all_call_apart types apart fs
      stmts_same no_stmts = refl
      stmts_same (a_stmt f fs) = rw (stmt_same f, stmts_same fs) refl

      branches_same : (branches : BranchesForm) → branches_call_apart types apart (seen_branches tracks branches) ≡ branches_call_apart types apart branches
      branches_same (otherwise fs) = stmts_same fs
      branches_same (a_branch e fs branches) = rw (stmts_same fs, branches_same branches) refl

      handlers_same : (hs : HandlersForm) → handlers_call_apart types apart (seen_handlers tracks hs) ≡ handlers_call_apart types apart hs
      handlers_same no_handlers = refl
      handlers_same (a_handler choices fs hs) = rw (stmts_same fs, handlers_same hs) refl

    body_same :
        (b : BodyForm) → (declare_apart types (seen_declarations tracks b.declarations) && all_call_apart types apart (seen_stmts tracks b.statements) && handlers_call_apart types apart (seen_handlers tracks b.handlers))
        ≡ body_calls_apart types apart b
    body_same b = rw (declarations_same b.declarations, stmts_same b.statements, handlers_same b.handlers) refl

    -- So does a body whose declarations are next.
    pub judged_apart :
        (b : BodyForm) → body_calls_apart types apart b ≡ true
        → ElaboratesApart types apart (seen_declarations tracks b.declarations) (seen_stmts tracks b.statements) (seen_handlers tracks b.handlers)
    judged_apart b own =
        elaborates_apart types apart (seen_declarations tracks b.declarations) (seen_stmts tracks b.statements) (seen_handlers tracks b.handlers) (body_same b ∙ own)
