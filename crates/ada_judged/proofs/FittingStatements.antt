-- Statements, branches and handlers over the variables as they are judged.

use Rattle.std.proofs.Common.{◌≡◌, ℕ, suc, ◌<◌, Bool, true, false, List, [], ◌∷◌, ◌++◌, length, Option, Some, None, refl, ap, ◌∙◌}
use Rattle.std.specs.Prelude.{◌==◌, ◌&&◌, ◌||◌, not, if◌then◌else◌, is_some}
use Rattle.std.specs.List.{list_all}
use Rattle.ada_program.specs.declared.program.Exception.{Exception}
use Rattle.ada_program.specs.declared.program.Exception.TheVariants.{ConstraintError, EndError}
use Rattle.ada_program.specs.declared.program.ScalarType.TheVariants.{Integer, Boolean}
use Rattle.ada_program.specs.declared.program.VariableKind.{VariableKind}
use Rattle.ada_program.specs.declared.program.Finalization.{Finalization}
use Rattle.ada_program.specs.Form.{RecordPathForm, ItemForm, null_item, item_of_path, item_of_value, item_of_record, StmtForm, skips, assigns, assigns_record, frees, gets, writes, writes_text, chooses, repeats, counts, exits, calls, returns, raises, encloses, StmtsForm, no_stmts, a_stmt, BranchesForm, otherwise, a_branch, HandlersForm, no_handlers, a_handler}
use Rattle.ada_program.specs.Handling.{some_takes, handler_of, is_taken}
use Rattle.ada_program.specs.ProgramForm.{TypeForm, VariableForm}
use Rattle.ada_program.specs.WellFormed.{access_of, has_parts_at, has_record_at, object_components, object_named, record_components, finalization_of, is_record_item, is_copy, copies_whole, is_filled, item_owns, is_record_path, record_fits, Creation, of_variable, variable_kind, is_this, scalar_of, is_type, path_kind, path_access, has_type, right_fits, names_borrower, lends_to, is_freed_by, condition_fits, has_statement, choice_fits, declarations_fit, statement_fits, stmts_fit, branches_fit, handlers_fit}
use Rattle.ada_program.specs.Nested.{collected, record_objects, collection_nests, record_nests, Callees, statements_nest, handlers_nest}
use Rattle.ada_effects.specs.Effects.{record_path_raises, items_raise, path_raises, untaken, right_raises, right_starts, ending_frees, stmts_raise}
use Rattle.ada_flow.specs.Tracking.{Tracks, seen, judged}
use Rattle.ada_tracked.specs.Forms.{seen_expression, seen_condition, seen_record, seen_item, seen_items, seen_right, seen_declarations, seen_stmt, seen_stmts, seen_branches, seen_handlers}
use Rattle.ada_tracked.specs.Simple.{ItemsAreSimple, StatementIsSimple, StatementsAreSimple, BranchesAreSimple, HandlersAreSimple}
use Rattle.ada_judged.specs.Fitting.{TracksComponents, PathIsOfRecord, ItemsAreOfRecord, StatementIsOfRecord, StatementsAreOfRecord, BranchesAreOfRecord, HandlersAreOfRecord, StatementNamesBefore, StatementsNameBefore, BranchesNameBefore, HandlersNameBefore, StatementFits, StatementsFit, BranchesFit, HandlersFit}
use Rattle.ada_judged.proofs.FittingPaths.{and_left, and_right, and_both, front_kind, inside_fits, path_fits}
use Rattle.ada_judged.proofs.FittingForms.{below, expression_fits, conditions_fit, item_list_fits, filled, right_is_fit, declarations_are_fit}
use Rattle.ada_judged.proofs.ObeyingPaths.{sees, behind_alike}

-- An exception that the first handler takes, or one behind it.
taken_by : (b : Bool) (fs gs : StmtsForm) (one other : Option StmtsForm) → is_some other ≡ is_some one → is_some (if b then Some gs else other) ≡ is_some (if b then Some fs else one)
taken_by true fs gs one other e = refl
taken_by false fs gs one other e = e

-- What is not taken by the one handlers is not taken by the others.
pub same_untaken : (hs others : HandlersForm) (among : Exception → Bool) → ((e : Exception) → is_taken others e ≡ is_taken hs e) → untaken others among ≡ untaken hs among
same_untaken hs others among h = λ i e. among e && not (h e i)

module _ (types : List TypeForm) (tracks : Tracks) (own : List VariableForm) (p : TracksComponents types tracks own) where
  -- The variables as they are judged.
  abbrev all : List VariableForm
  all = judged types tracks own

  -- What a block creates, and where.
  abbrev pub nest : (callees : Callees) (around us rs : List ℕ) (fs : StmtsForm) (hs : HandlersForm) → Bool
  nest callees around us rs fs hs =
      (list_all (collection_nests types around (us ++ around)) us && list_all (record_nests types (us ++ around)) rs) && statements_nest types callees (us ++ around) fs
      && handlers_nest types callees (us ++ around) hs

  pub block_nests : (callees : Callees) (around us vs rs ts : List ℕ) (fs gs : StmtsForm) (hs ks : HandlersForm) → us ≡ vs → rs ≡ ts → statements_nest types callees (vs ++ around) fs ≡ statements_nest types callees (vs ++ around) gs → handlers_nest types callees (vs ++ around) hs ≡ handlers_nest types callees (vs ++ around) ks → nest callees around us rs fs hs ≡ nest callees around vs ts gs ks
  block_nests callees around us vs rs ts fs gs hs ks collections records statements handlers =
      ap (λ (xs : List ℕ). nest callees around xs rs fs hs) collections
      ∙ ap (λ (xs : List ℕ). nest callees around vs xs fs hs) records
      ∙ ap (λ (b : Bool). (list_all (collection_nests types around (vs ++ around)) vs && list_all (record_nests types (vs ++ around)) ts) && b && handlers_nest types callees (vs ++ around) hs) statements
      ∙ ap (λ (b : Bool). (list_all (collection_nests types around (vs ++ around)) vs && list_all (record_nests types (vs ++ around)) ts) && statements_nest types callees (vs ++ around) gs && b) handlers

  -- A record that is assigned.
  as_many : (items : List ItemForm) → length (seen_items tracks items) ≡ length items
  as_many [] = refl
  as_many (i ∷ is) = ap (λ (n : ℕ). suc n) (as_many is)

  copied_one : (t : ℕ) (i : ItemForm) → is_record_item t (seen_item tracks i) ≡ is_record_item t i
  copied_one t null_item = refl
  copied_one t (item_of_path path) = refl
  copied_one t (item_of_value e) = refl
  copied_one t (item_of_record q) = refl

  copied_alike : (t : ℕ) (items : List ItemForm) → is_copy t (seen_items tracks items) ≡ is_copy t items
  copied_alike t [] = refl
  copied_alike t (i ∷ is) = ap (λ (b : Bool). b && (length (seen_items tracks is) == 0)) (copied_one t i) ∙ ap (λ (n : ℕ). is_record_item t i && (n == 0)) (as_many is)

  whole_alike : (t : ℕ) (f : Option Finalization) (items : List ItemForm) → copies_whole t f (seen_items tracks items) ≡ copies_whole t f items
  whole_alike t None items = refl
  whole_alike t (Some f) items = ap (λ (b : Bool). not f.limited && b) (copied_alike t items)

  pub same_record :
      (target : RecordPathForm) (items : List ItemForm) → target.object.root < tracks.first → PathIsOfRecord target.object → ItemsAreSimple tracks.first items → ItemsAreOfRecord items
      → (is_record_path types all (seen_record tracks target) && record_fits types all target.record_type (seen_items tracks items))
      ≡ (is_record_path types own target && record_fits types own target.record_type items)
  same_record target items inside of_record s r =
      let components = record_components types target.record_type in
      let js = seen_items tracks items in
      let kind = (inside_fits types tracks own p target.object inside of_record).kind in
      let v = item_list_fits types tracks own p items s r in
      ap (λ (k : Option VariableKind). (has_record_at (object_components types (access_of k)) target.first components
      && has_parts_at types target.record_type (object_named types (access_of k)) target.first target.part) && record_fits types all target.record_type js) kind
      ∙ ap (λ (b : Bool). is_record_path types own target && (b && list_all (item_owns all) js && copies_whole target.record_type (finalization_of types target.record_type) js))
      (filled types tracks own p components items s r)
      ∙ ap (λ (b : Bool). is_record_path types own target && (is_filled types own components items && b && copies_whole target.record_type (finalization_of types target.record_type) js)) v.owns
      ∙ ap (λ (b : Bool). is_record_path types own target && (is_filled types own components items && list_all (item_owns own) items && b))
      (whole_alike target.record_type (finalization_of types target.record_type) items)

  mutual
    statement_is_fit : (f : StmtForm) → StatementIsSimple tracks.first f → StatementIsOfRecord tracks f → StatementFits types own all (StatementNamesBefore tracks f) f (seen_stmt tracks f)
    statement_is_fit skips s r = record {
      fits = λ texts exceptions callable inside h before. h;
      frees_own = refl;
      creates = refl;
      nests = λ callees around. refl;
      may_raise = λ effects among. refl;
      may_free = λ effects access. refl;
    }
    statement_is_fit (assigns target right) s r =
        let q = path_fits types tracks own p target s.0 r.0 in
        let v = right_is_fit types tracks own p right s.1 r.1 in
        record {
          fits = λ texts exceptions callable inside h before.
              and_both (right_fits types all (path_kind types all (seen tracks target)) (seen_right tracks right)) (lends_to all (names_borrower all (seen tracks target)) (seen_right tracks right))
              (v.fits (path_kind types all (seen tracks target)) ∙ ap (λ (k : Option VariableKind). right_fits types own k right) q.kind
              ∙ and_left (right_fits types own (path_kind types own target) right) (lends_to own (names_borrower own target) right) h)
              (v.lends (names_borrower all (seen tracks target)) ∙ ap (λ (b : Bool). lends_to own b right) q.borrows
              ∙ and_right (right_fits types own (path_kind types own target) right) (lends_to own (names_borrower own target) right) h);
          frees_own = refl;
          creates = refl;
          nests = λ callees around. refl;
          may_raise = λ effects among.
              ap (λ (b : Bool). ((among ConstraintError && b) || right_raises among (seen_right tracks right)) || right_starts effects.implicit among (seen_right tracks right)) q.may_raise
              ∙ ap (λ (b : Bool). ((among ConstraintError && path_raises target) || b) || right_starts effects.implicit among (seen_right tracks right)) (v.may_raise among)
              ∙ ap (λ (b : Bool). ((among ConstraintError && path_raises target) || right_raises among right) || b) (v.may_start effects.implicit among);
          may_free = λ effects access. v.may_free effects.implicit access;
        }
    statement_is_fit (assigns_record target items) s r =
        let v = item_list_fits types tracks own p items s.1 r.1 in
        let behind = behind_alike tracks target.object (seen tracks target.object) (sees tracks target.object) in
        record {
          fits = λ texts exceptions callable inside h before. same_record target items s.0 r.0 s.1 r.1 ∙ h;
          frees_own = refl;
          creates = refl;
          nests = λ callees around. refl;
          may_raise = λ effects among.
              ap (λ (b : Bool). among ConstraintError && (b || items_raise (seen_items tracks items))) behind
              ∙ ap (λ (b : Bool). among ConstraintError && (record_path_raises target || b)) v.may_raise;
          may_free = λ effects access. refl;
        }
    statement_is_fit (frees access path) s r =
        let q = path_fits types tracks own p path s r in
        record {
          fits = λ texts exceptions callable inside h before.
              ap (λ (k : Option ℕ). is_freed_by types access k && not (names_borrower all (seen tracks path))) q.access
              ∙ ap (λ (b : Bool). is_freed_by types access (path_access types own path) && not b) q.borrows ∙ h;
          frees_own = ap (is_this access) q.access;
          creates = refl;
          nests = λ callees around. refl;
          may_raise = λ effects among. ap (λ (b : Bool). among ConstraintError && b) q.may_raise;
          may_free = λ effects t. ap (λ (k : Option ℕ). is_this t k || ending_frees effects.implicit t k) q.access;
        }
    statement_is_fit (gets target) s r =
        let q = path_fits types tracks own p target s r.0 in
        record {
          fits = λ texts exceptions callable inside h before. ap (λ (k : Option VariableKind). is_type Integer (scalar_of k)) q.kind ∙ h;
          frees_own = refl;
          creates = refl;
          nests = λ callees around. refl;
          may_raise = λ effects among. ap (λ (b : Bool). among EndError || (among ConstraintError && b)) q.may_raise;
          may_free = λ effects access. refl;
        }
    statement_is_fit (writes e) s r =
        let q = expression_fits types tracks own p e s r in
        record {
          fits = λ texts exceptions callable inside h before. ap (is_type Integer) q.kind ∙ h;
          frees_own = refl;
          creates = refl;
          nests = λ callees around. refl;
          may_raise = λ effects among. ap (λ (b : Bool). among ConstraintError && b) q.may_raise;
          may_free = λ effects access. refl;
        }
    statement_is_fit (writes_text text) s r = record {
      fits = λ texts exceptions callable inside h before. h;
      frees_own = refl;
      creates = refl;
      nests = λ callees around. refl;
      may_raise = λ effects among. refl;
      may_free = λ effects access. refl;
    }
    statement_is_fit (chooses branches) s r =
        let q = branches_are_fit branches s r in
        record {
          fits = λ texts exceptions callable inside h before. q.fits texts exceptions callable inside h before;
          frees_own = q.frees_own;
          creates = q.creates;
          nests = λ callees around. q.nests callees around;
          may_raise = λ effects among. q.may_raise effects among;
          may_free = λ effects access. q.may_free effects access;
        }
    statement_is_fit (repeats condition fs spot) s r =
        let c = conditions_fit types tracks own p condition s.0 r.0 in
        let q = statements_are_fit fs s.1 r.1 in
        record {
          fits = λ texts exceptions callable inside h before.
              let a = condition_fits types own condition in
              let b = has_statement fs in
              let d = stmts_fit types own texts exceptions callable true fs in
              let front = and_left (a && b) d h in
              and_both (condition_fits types all (seen_condition tracks condition) && has_statement (seen_stmts tracks fs)) (stmts_fit types all texts exceptions callable true (seen_stmts tracks fs))
              (and_both (condition_fits types all (seen_condition tracks condition)) (has_statement (seen_stmts tracks fs)) (c.fits ∙ and_left a b front) (q.there ∙ and_right a b front))
              (q.fits texts exceptions callable true (and_right (a && b) d h) before);
          frees_own = q.frees_own;
          creates = q.creates;
          nests = λ callees around. q.nests callees around;
          may_raise = λ effects among.
              ap (λ (b : Bool). (among ConstraintError && b) || stmts_raise effects among (seen_stmts tracks fs)) c.may_raise
              ∙ (let inner = q.may_raise effects among in cc (inner));
          may_free = λ effects access. q.may_free effects access;
        }
    statement_is_fit (counts x low high fs spot) s r =
        let first = expression_fits types tracks own p low s.1 r.0 in
        let last = expression_fits types tracks own p high s.2 r.1 in
        let q = statements_are_fit fs s.3 r.2 in
        record {
          fits = λ texts exceptions callable inside h before.
              let a = is_type Integer (scalar_of (variable_kind own x)) in
              let b = has_type types own Integer low in
              let c = has_type types own Integer high in
              let d = has_statement fs in
              let e = stmts_fit types own texts exceptions callable true fs in
              let a2 = is_type Integer (scalar_of (variable_kind all x)) in
              let b2 = has_type types all Integer (seen_expression tracks low) in
              let c2 = has_type types all Integer (seen_expression tracks high) in
              let d2 = has_statement (seen_stmts tracks fs) in
              let e2 = stmts_fit types all texts exceptions callable true (seen_stmts tracks fs) in
              let four = and_left (a && b && c && d) e h in
              let three = and_left (a && b && c) d four in
              let two = and_left (a && b) c three in
              and_both (a2 && b2 && c2 && d2) e2
              (and_both (a2 && b2 && c2) d2
              (and_both (a2 && b2) c2
              (and_both a2 b2 (ap (λ (k : Option VariableKind). is_type Integer (scalar_of k)) (front_kind types tracks own x (below types tracks own p x s.0.1)) ∙ and_left a b two)
              (ap (is_type Integer) first.kind ∙ and_right a b two))
              (ap (is_type Integer) last.kind ∙ and_right (a && b) c three))
              (q.there ∙ and_right (a && b && c) d four))
              (q.fits texts exceptions callable true (and_right (a && b && c && d) e h) before);
          frees_own = q.frees_own;
          creates = ap (λ (cs : List Creation). of_variable x ∷ cs) q.creates;
          nests = λ callees around. q.nests callees around;
          may_raise = λ effects among.
              let low_raises = first.may_raise in
              let high_raises = last.may_raise in
              let inner = q.may_raise effects among in
              cc (low_raises, high_raises, inner);
          may_free = λ effects access. q.may_free effects access;
        }
    statement_is_fit (exits condition spot) s r =
        let c = conditions_fit types tracks own p condition s r in
        record {
          fits = λ texts exceptions callable inside h before. ap (λ (b : Bool). inside && b) c.fits ∙ h;
          frees_own = refl;
          creates = refl;
          nests = λ callees around. refl;
          may_raise = λ effects among. ap (λ (b : Bool). among ConstraintError && b) c.may_raise;
          may_free = λ effects access. refl;
        }
    statement_is_fit (calls procedure actuals) s r = absurd s
    statement_is_fit (returns spot) s r = record {
      fits = λ texts exceptions callable inside h before. h;
      frees_own = refl;
      creates = refl;
      nests = λ callees around. refl;
      may_raise = λ effects among. refl;
      may_free = λ effects access. refl;
    }
    statement_is_fit (raises e) s r = record {
      fits = λ texts exceptions callable inside h before. h;
      frees_own = refl;
      creates = refl;
      nests = λ callees around. refl;
      may_raise = λ effects among. refl;
      may_free = λ effects access. refl;
    }
    statement_is_fit (encloses ds fs hs) s r =
        let d = declarations_are_fit types tracks own p ds s.0 r.0 in
        let q = statements_are_fit fs s.1 r.1 in
        let g = handlers_are_fit hs s.2 r.2 in
        record {
          fits = λ texts exceptions callable inside h before.
              let a = declarations_fit types own ds in
              let b = stmts_fit types own texts exceptions callable inside fs in
              let c = handlers_fit types own texts exceptions callable inside hs in
              let front = and_left (a && b) c h in
              and_both (declarations_fit types all (seen_declarations tracks ds) && stmts_fit types all texts exceptions callable inside (seen_stmts tracks fs)) (handlers_fit types all texts exceptions callable inside (seen_handlers tracks hs))
              (and_both (declarations_fit types all (seen_declarations tracks ds)) (stmts_fit types all texts exceptions callable inside (seen_stmts tracks fs))
              (d.fits (and_left a b front) before.0) (q.fits texts exceptions callable inside (and_right a b front) before.1))
              (g.fits texts exceptions callable inside (and_right (a && b) c h) before.2);
          frees_own =
              let one = q.frees_own in
              let more = g.frees_own in
              cc (one, more);
          creates =
              let one = d.creates in
              let two = q.creates in
              let three = g.creates in
              cc (one, two, three);
          nests = λ callees around.
              block_nests callees around (collected (seen_declarations tracks ds)) (collected ds) (record_objects (seen_declarations tracks ds)) (record_objects ds) (seen_stmts tracks fs) fs (seen_handlers tracks hs) hs
              d.collects d.has_records (q.nests callees (collected ds ++ around)) (g.nests callees (collected ds ++ around));
          may_raise = λ effects among.
              let one = d.may_raise effects.implicit among in
              let two = q.may_raise effects (untaken (seen_handlers tracks hs) among) ∙ ap (λ (m : Exception → Bool). stmts_raise effects m fs) (same_untaken hs (seen_handlers tracks hs) among g.takes) in
              let three = g.may_raise effects among in
              cc (one, two, three);
          may_free = λ effects access.
              let one = q.may_free effects access in
              let two = g.may_free effects access in
              let three = d.may_free effects.implicit access in
              let four = d.may_free_at_end effects.implicit access in
              cc (one, two, three, four);
        }

    pub statements_are_fit : (fs : StmtsForm) → StatementsAreSimple tracks.first fs → StatementsAreOfRecord tracks fs → StatementsFit types own all (StatementsNameBefore tracks fs) fs (seen_stmts tracks fs)
    statements_are_fit no_stmts s r = record {
      fits = λ texts exceptions callable inside h before. h;
      there = refl;
      frees_own = refl;
      creates = refl;
      nests = λ callees around. refl;
      may_raise = λ effects among. refl;
      may_free = λ effects access. refl;
    }
    statements_are_fit (a_stmt f fs) s r =
        let q = statement_is_fit f s.0 r.0 in
        let g = statements_are_fit fs s.1 r.1 in
        record {
          fits = λ texts exceptions callable inside h before.
              let a = statement_fits types own texts exceptions callable inside f in
              let b = stmts_fit types own texts exceptions callable inside fs in
              and_both (statement_fits types all texts exceptions callable inside (seen_stmt tracks f)) (stmts_fit types all texts exceptions callable inside (seen_stmts tracks fs))
              (q.fits texts exceptions callable inside (and_left a b h) before.0) (g.fits texts exceptions callable inside (and_right a b h) before.1);
          there = refl;
          frees_own =
              let one = q.frees_own in
              let more = g.frees_own in
              cc (one, more);
          creates =
              let one = q.creates in
              let more = g.creates in
              cc (one, more);
          nests = λ callees around.
              let one = q.nests callees around in
              let more = g.nests callees around in
              cc (one, more);
          may_raise = λ effects among.
              let one = q.may_raise effects among in
              let more = g.may_raise effects among in
              cc (one, more);
          may_free = λ effects access.
              let one = q.may_free effects access in
              let more = g.may_free effects access in
              cc (one, more);
        }

    pub branches_are_fit : (branches : BranchesForm) → BranchesAreSimple tracks.first branches → BranchesAreOfRecord tracks branches → BranchesFit types own all (BranchesNameBefore tracks branches) branches (seen_branches tracks branches)
    branches_are_fit (otherwise fs) s r =
        let q = statements_are_fit fs s r in
        record {
          fits = λ texts exceptions callable inside h before. q.fits texts exceptions callable inside h before;
          frees_own = q.frees_own;
          creates = q.creates;
          nests = λ callees around. q.nests callees around;
          may_raise = λ effects among. q.may_raise effects among;
          may_free = λ effects access. q.may_free effects access;
        }
    branches_are_fit (a_branch e fs branches) s r =
        let v = expression_fits types tracks own p e s.0 r.0 in
        let q = statements_are_fit fs s.1 r.1 in
        let g = branches_are_fit branches s.2 r.2 in
        record {
          fits = λ texts exceptions callable inside h before.
              let a = has_type types own Boolean e in
              let b = stmts_fit types own texts exceptions callable inside fs in
              let c = branches_fit types own texts exceptions callable inside branches in
              let front = and_left (a && b) c h in
              and_both (has_type types all Boolean (seen_expression tracks e) && stmts_fit types all texts exceptions callable inside (seen_stmts tracks fs)) (branches_fit types all texts exceptions callable inside (seen_branches tracks branches))
              (and_both (has_type types all Boolean (seen_expression tracks e)) (stmts_fit types all texts exceptions callable inside (seen_stmts tracks fs))
              (ap (is_type Boolean) v.kind ∙ and_left a b front) (q.fits texts exceptions callable inside (and_right a b front) before.0))
              (g.fits texts exceptions callable inside (and_right (a && b) c h) before.1);
          frees_own =
              let one = q.frees_own in
              let more = g.frees_own in
              cc (one, more);
          creates =
              let one = q.creates in
              let more = g.creates in
              cc (one, more);
          nests = λ callees around.
              let one = q.nests callees around in
              let more = g.nests callees around in
              cc (one, more);
          may_raise = λ effects among.
              let condition = v.may_raise in
              let one = q.may_raise effects among in
              let more = g.may_raise effects among in
              cc (condition, one, more);
          may_free = λ effects access.
              let one = q.may_free effects access in
              let more = g.may_free effects access in
              cc (one, more);
        }

    pub handlers_are_fit : (hs : HandlersForm) → HandlersAreSimple tracks.first hs → HandlersAreOfRecord tracks hs → HandlersFit types own all (HandlersNameBefore tracks hs) hs (seen_handlers tracks hs)
    handlers_are_fit no_handlers s r = record {
      fits = λ texts exceptions callable inside h before. h;
      takes = λ e. refl;
      frees_own = refl;
      creates = refl;
      nests = λ callees around. refl;
      may_raise = λ effects among. refl;
      may_free = λ effects access. refl;
    }
    handlers_are_fit (a_handler choices fs hs) s r =
        let q = statements_are_fit fs s.0 r.0 in
        let g = handlers_are_fit hs s.1 r.1 in
        record {
          fits = λ texts exceptions callable inside h before.
              let a = list_all (choice_fits exceptions) choices in
              let b = has_statement fs in
              let c = stmts_fit types own texts exceptions callable inside fs in
              let d = handlers_fit types own texts exceptions callable inside hs in
              let three = and_left (a && b && c) d h in
              let two = and_left (a && b) c three in
              and_both (a && has_statement (seen_stmts tracks fs) && stmts_fit types all texts exceptions callable inside (seen_stmts tracks fs)) (handlers_fit types all texts exceptions callable inside (seen_handlers tracks hs))
              (and_both (a && has_statement (seen_stmts tracks fs)) (stmts_fit types all texts exceptions callable inside (seen_stmts tracks fs))
              (and_both a (has_statement (seen_stmts tracks fs)) (and_left a b two) (q.there ∙ and_right a b two))
              (q.fits texts exceptions callable inside (and_right (a && b) c three) before.0))
              (g.fits texts exceptions callable inside (and_right (a && b && c) d h) before.1);
          takes = λ e. taken_by (some_takes e choices) fs (seen_stmts tracks fs) (handler_of e hs) (handler_of e (seen_handlers tracks hs)) (g.takes e);
          frees_own =
              let one = q.frees_own in
              let more = g.frees_own in
              cc (one, more);
          creates =
              let one = q.creates in
              let more = g.creates in
              cc (one, more);
          nests = λ callees around.
              let one = q.nests callees around in
              let more = g.nests callees around in
              cc (one, more);
          may_raise = λ effects among.
              let one = q.may_raise effects among in
              let more = g.may_raise effects among in
              cc (one, more);
          may_free = λ effects access.
              let one = q.may_free effects access in
              let more = g.may_free effects access in
              cc (one, more);
        }
