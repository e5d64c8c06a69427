-- A body that tracks components of its formal parameter (7.6), as it is judged, may free objects of the same access types, and raise the same exceptions.

use Rattle.std.proofs.Common.{◌≡◌, ℕ, Bool, ◌||◌, List, [], ◌∷◌, refl, sym, ap, ◌∙◌, subst}
use Rattle.std.specs.Prelude.{Option, Some, None}
use Rattle.std.specs.List.{slice_get}
use Rattle.ada_program.specs.declared.program.Exception.{Exception}
use Rattle.ada_program.specs.Form.{ExpressionForm, integer, boolean, reads, is_null, applied_to, chained, LinksForm, no_more_links, a_link, ItemForm, null_item, item_of_path, item_of_value, item_of_record, RightForm, nothing, value_of, allocates, allocates_default, computes, DeclarationForm, creates_pool, collects, declares, declares_record, StmtForm, skips, assigns, assigns_record, frees, gets, writes, writes_text, chooses, repeats, counts, exits, calls, returns, raises, encloses, StmtsForm, no_stmts, a_stmt, BranchesForm, otherwise, a_branch, HandlersForm, no_handlers, a_handler}
use Rattle.ada_program.specs.Handling.{is_same}
use Rattle.ada_program.specs.ProgramForm.{BodyForm, ProgramForm, main_body, seen_by, seen_in}
use Rattle.ada_effects.specs.Effects.{Effects, Implicit, untaken, stmts_raise, body_raises, body_frees, effects_of}
use Rattle.ada_flow.specs.Flow.{have_exit, handlers_have_exit}
use Rattle.ada_flow.specs.Tracking.{Tracks}
use Rattle.ada_tracked.specs.Forms.{seen_declarations, seen_stmts, seen_handlers}
use Rattle.ada_tracked.specs.Simple.{ExpressionIsSimple, LinksAreSimple, ConditionIsSimple, ItemIsSimple, ItemsAreSimple, RightIsSimple, DeclarationIsSimple, DeclarationsAreSimple, StatementIsSimple, StatementsAreSimple, BranchesAreSimple, HandlersAreSimple}
use Rattle.ada_judged.specs.Obeying.{ExpressionIsOrderly, LinksAreOrderly, ConditionIsOrderly, ItemIsOrderly, ItemsAreOrderly, RightIsOrderly, DeclarationIsOrderly, DeclarationsAreOrderly, StatementIsOrderly, StatementsAreOrderly, BranchesAreOrderly, HandlersAreOrderly, BodyIsOrderly}
use Rattle.ada_judged.specs.Fitting.{TracksComponents, ExpressionIsOfRecord, LinksAreOfRecord, ConditionIsOfRecord, ItemIsOfRecord, ItemsAreOfRecord, RightIsOfRecord, DeclarationIsOfRecord, DeclarationsAreOfRecord, StatementIsOfRecord, StatementsAreOfRecord, BranchesAreOfRecord, HandlersAreOfRecord, BodyIsSimple, BodyIsOfRecord, DeclarationsFit, DeclarationsNameBefore, StatementsFit, StatementsNameBefore, HandlersFit, HandlersNameBefore}
use Rattle.ada_judged.proofs.FittingBodies.{tracked_fit_as_variables}
use Rattle.ada_judged.proofs.FittingStatements.{same_untaken}
use Rattle.ada_judged.proofs.ObeyingForms.{is_left_alike}
use Rattle.ada_sound.proofs.Bodies.{seen_is}
use Rattle.ada_sound.proofs.Invariant.{CoveredIn, body_among}
use Rattle.ada_sound.proofs.Judged.{judged_in}

-- Forms of which flow's law speaks are such as the law takes that they fit: simple, and their paths from the formal parameter begin with a record object.
module _ (tracks : Tracks) where
  mutual
    expression_both : (e : ExpressionForm) → ExpressionIsOrderly tracks e → ExpressionIsSimple tracks.first e × ExpressionIsOfRecord e
    expression_both (integer i) h = (tt, tt)
    expression_both (boolean b) h = (tt, tt)
    expression_both (reads path) h = h
    expression_both (is_null equal path) h = h
    expression_both (applied_to operator e) h = expression_both e h
    expression_both (chained e links) h =
        let one = expression_both e h.0 in
        let rest = links_both links h.1 in
        ((one.0, rest.0), (one.1, rest.1))

    links_both : (links : LinksForm) → LinksAreOrderly tracks links → LinksAreSimple tracks.first links × LinksAreOfRecord links
    links_both no_more_links h = (tt, tt)
    links_both (a_link operator e links) h =
        let one = expression_both e h.0 in
        let rest = links_both links h.1 in
        ((one.0, rest.0), (one.1, rest.1))

  condition_both : (condition : Option ExpressionForm) → ConditionIsOrderly tracks condition → ConditionIsSimple tracks.first condition × ConditionIsOfRecord condition
  condition_both None h = (tt, tt)
  condition_both (Some e) h = expression_both e h

  item_both : (i : ItemForm) → ItemIsOrderly tracks i → ItemIsSimple tracks.first i × ItemIsOfRecord i
  item_both null_item h = (tt, tt)
  item_both (item_of_path path) h = h
  item_both (item_of_value e) h = expression_both e h
  item_both (item_of_record p) h = h

  items_both : (items : List ItemForm) → ItemsAreOrderly tracks items → ItemsAreSimple tracks.first items × ItemsAreOfRecord items
  items_both [] h = (tt, tt)
  items_both (i ∷ items) h =
      let one = item_both i h.0 in
      let rest = items_both items h.1 in
      ((one.0, rest.0), (one.1, rest.1))

  right_both : (right : RightForm) → RightIsOrderly tracks right → RightIsSimple tracks.first right × RightIsOfRecord right
  right_both nothing h = (tt, tt)
  right_both (value_of path) h = h
  right_both (allocates access items) h = items_both items h
  right_both (allocates_default access) h = (tt, tt)
  right_both (computes e) h = expression_both e h

  declaration_both : (d : DeclarationForm) → DeclarationIsOrderly tracks d → DeclarationIsSimple tracks.first d × DeclarationIsOfRecord d
  declaration_both (creates_pool p) h = (tt, tt)
  declaration_both (collects access) h = (tt, tt)
  declaration_both (declares x right) h = let value = right_both right h.1 in ((h.0, value.0), value.1)
  declaration_both (declares_record x t initial) h = absurd h

  declarations_both : (ds : List DeclarationForm) → DeclarationsAreOrderly tracks ds → DeclarationsAreSimple tracks.first ds × DeclarationsAreOfRecord ds
  declarations_both [] h = (tt, tt)
  declarations_both (d ∷ ds) h =
      let one = declaration_both d h.0 in
      let rest = declarations_both ds h.1 in
      ((one.0, rest.0), (one.1, rest.1))

  mutual
    statement_both : (f : StmtForm) → StatementIsOrderly tracks f → StatementIsSimple tracks.first f × StatementIsOfRecord tracks f
    statement_both skips h = (tt, tt)
    statement_both (assigns target right) h = let value = right_both right h.1 in ((h.0.0, value.0), (h.0.1, value.1))
    statement_both (assigns_record target items) h = let value = items_both items h.1 in ((h.0.0, value.0), (h.0.1, value.1))
    statement_both (frees access path) h = h
    statement_both (gets target) h = (h.0.0, (h.0.1, h.1))
    statement_both (writes e) h = expression_both e h
    statement_both (writes_text text) h = (tt, tt)
    statement_both (chooses branches) h = branches_both branches h
    statement_both (repeats condition fs spot) h =
        let test = condition_both condition h.0 in
        let body = statements_both fs h.1 in
        ((test.0, body.0), (test.1, body.1))
    statement_both (counts x low high fs spot) h =
        let first = expression_both low h.1 in
        let last = expression_both high h.2 in
        let body = statements_both fs h.3 in
        ((h.0, first.0, last.0, body.0), (first.1, last.1, body.1))
    statement_both (exits condition spot) h = condition_both condition h
    statement_both (calls procedure actuals) h = absurd h
    statement_both (returns spot) h = (tt, tt)
    statement_both (raises e) h = (tt, tt)
    statement_both (encloses ds fs hs) h =
        let declared = declarations_both ds h.0 in
        let body = statements_both fs h.1 in
        let handled = handlers_both hs h.2 in
        ((declared.0, body.0, handled.0), (declared.1, body.1, handled.1))

    statements_both : (fs : StmtsForm) → StatementsAreOrderly tracks fs → StatementsAreSimple tracks.first fs × StatementsAreOfRecord tracks fs
    statements_both no_stmts h = (tt, tt)
    statements_both (a_stmt f fs) h =
        let one = statement_both f h.0 in
        let rest = statements_both fs h.1 in
        ((one.0, rest.0), (one.1, rest.1))

    branches_both : (bs : BranchesForm) → BranchesAreOrderly tracks bs → BranchesAreSimple tracks.first bs × BranchesAreOfRecord tracks bs
    branches_both (otherwise fs) h = statements_both fs h
    branches_both (a_branch e fs bs) h =
        let test = expression_both e h.0 in
        let body = statements_both fs h.1 in
        let rest = branches_both bs h.2 in
        ((test.0, body.0, rest.0), (test.1, body.1, rest.1))

    handlers_both : (hs : HandlersForm) → HandlersAreOrderly tracks hs → HandlersAreSimple tracks.first hs × HandlersAreOfRecord tracks hs
    handlers_both no_handlers h = (tt, tt)
    handlers_both (a_handler choices fs hs) h =
        let body = statements_both fs h.0 in
        let rest = handlers_both hs h.1 in
        ((body.0, rest.0), (body.1, rest.1))

  -- A body of orderly forms is of simple ones.
  pub orderly_simple : (b : BodyForm) → BodyIsOrderly tracks b → BodyIsSimple tracks.first b
  orderly_simple b h = ((declarations_both b.declarations h.declarations).0, (statements_both b.statements h.statements).0, (handlers_both b.handlers h.handlers).0)

  -- Its paths from the formal parameter begin with a record object, and no tracked component is read to.
  pub orderly_of_record : (b : BodyForm) → BodyIsOrderly tracks b → BodyIsOfRecord tracks b
  orderly_of_record b h = ((declarations_both b.declarations h.declarations).1, (statements_both b.statements h.statements).1, (handlers_both b.handlers h.handlers).1)

  -- No exit leads out of statements or handlers as they are judged where none does.
  pub judged_exits : (fs : StmtsForm) → have_exit (seen_stmts tracks fs) ≡ have_exit fs
  judged_exits fs = is_left_alike tracks None fs

  pub judged_handlers_exit : (hs : HandlersForm) → handlers_have_exit (seen_handlers tracks hs) ≡ handlers_have_exit hs
  judged_handlers_exit no_handlers = refl
  judged_handlers_exit (a_handler choices fs hs) =
      ap (λ (b : Bool). b || handlers_have_exit (seen_handlers tracks hs)) (judged_exits fs) ∙ ap (λ (b : Bool). have_exit fs || b) (judged_handlers_exit hs)

-- A body that tracks these components, as it sees its program.
module _ (own : ProgramForm) (tracks : Tracks) (components : TracksComponents own.types tracks own.variables) (orderly : BodyIsOrderly tracks (main_body own)) where
  abbrev declared : DeclarationsFit own.types own.variables (judged_in tracks own).variables (DeclarationsNameBefore tracks own.declarations) own.declarations (seen_declarations tracks own.declarations)
  declared =
      let both = declarations_both tracks own.declarations orderly.declarations in
      ((tracked_fit_as_variables own.types tracks).0 own.variables components).1.5 own.declarations both.0 both.1

  abbrev stated : StatementsFit own.types own.variables (judged_in tracks own).variables (StatementsNameBefore tracks own.statements) own.statements (seen_stmts tracks own.statements)
  stated =
      let both = statements_both tracks own.statements orderly.statements in
      ((tracked_fit_as_variables own.types tracks).0 own.variables components).1.6 own.statements both.0 both.1

  abbrev handled : HandlersFit own.types own.variables (judged_in tracks own).variables (HandlersNameBefore tracks own.handlers) own.handlers (seen_handlers tracks own.handlers)
  handled =
      let both = handlers_both tracks own.handlers orderly.handlers in
      ((tracked_fit_as_variables own.types tracks).0 own.variables components).1.8 own.handlers both.0 both.1

  -- It may free the same, as it is judged.
  pub judged_frees : (effects : Effects) (t : ℕ) → body_frees own.types effects (main_body (judged_in tracks own)) t ≡ body_frees own.types effects (main_body own) t
  judged_frees effects t =
      let one = stated.may_free effects t in
      let two = handled.may_free effects t in
      let three = declared.may_free effects.implicit t in
      let four = declared.may_free_at_end effects.implicit t in
      cc (one, two, three, four)

  -- It may raise the same.
  pub judged_raises : (effects : Effects) (among : Exception → Bool) → body_raises effects (main_body (judged_in tracks own)) among ≡ body_raises effects (main_body own) among
  judged_raises effects among =
      let one = declared.may_raise effects.implicit among in
      let two : stmts_raise effects (untaken (seen_handlers tracks own.handlers) among) (seen_stmts tracks own.statements) ≡ stmts_raise effects (untaken own.handlers among) own.statements =
      stated.may_raise effects (untaken (seen_handlers tracks own.handlers) among)
      ∙ ap (λ (m : Exception → Bool). stmts_raise effects m own.statements) (same_untaken own.handlers (seen_handlers tracks own.handlers) among handled.takes) in
      let three = handled.may_raise effects among in
      cc (one, two, three)

  -- So effects cover the same frees, and the same exceptions.
  pub judged_covers : (implicit : Implicit) (t : ℕ) → CoveredIn implicit (judged_in tracks own) t → CoveredIn implicit own t
  judged_covers implicit t covered = sym (judged_frees (effects_of implicit own) t) ∙ covered

  pub covers_judged : (implicit : Implicit) (t : ℕ) → CoveredIn implicit own t → CoveredIn implicit (judged_in tracks own) t
  covers_judged implicit t covered = judged_frees (effects_of implicit own) t ∙ covered

  pub judged_among : (implicit : Implicit) (e : Exception) → body_among implicit (judged_in tracks own) e ≡ body_among implicit own e
  judged_among implicit e = judged_raises (effects_of implicit own) (is_same e)

-- What is known of a body at its number is known of it as it sees its program.
pub tracks_seen : (p : ProgramForm) (number : ℕ) (b : BodyForm) (tracks : Tracks) → slice_get p.bodies number ≡ Some b → TracksComponents p.types tracks b.variables
    → TracksComponents (seen_in (Some number) p).types tracks (seen_in (Some number) p).variables
tracks_seen p number b tracks there components = subst (λ own. TracksComponents own.types tracks own.variables) (sym (seen_is p number b there)) components

pub orderly_seen : (p : ProgramForm) (number : ℕ) (b : BodyForm) (tracks : Tracks) → slice_get p.bodies number ≡ Some b → BodyIsOrderly tracks b
    → BodyIsOrderly tracks (main_body (seen_in (Some number) p))
orderly_seen p number b tracks there orderly = subst (λ own. BodyIsOrderly tracks (main_body own)) (sym (seen_is p number b there)) orderly

-- So it may free and raise what the body at that number may.
pub frees_as_judged : (p : ProgramForm) (number : ℕ) (b : BodyForm) (tracks : Tracks) → slice_get p.bodies number ≡ Some b → TracksComponents p.types tracks b.variables → BodyIsOrderly tracks b
    → (effects : Effects) (t : ℕ) → body_frees p.types effects (main_body (judged_in tracks (seen_in (Some number) p))) t ≡ body_frees p.types effects b t
frees_as_judged p number b tracks there components orderly effects t = rw (seen_is p number b there) (judged_frees (seen_by number b p) tracks components orderly effects t)

pub raises_as_judged : (p : ProgramForm) (number : ℕ) (b : BodyForm) (tracks : Tracks) → slice_get p.bodies number ≡ Some b → TracksComponents p.types tracks b.variables → BodyIsOrderly tracks b
    → (effects : Effects) (among : Exception → Bool) → body_raises effects (main_body (judged_in tracks (seen_in (Some number) p))) among ≡ body_raises effects b among
raises_as_judged p number b tracks there components orderly effects among = rw (seen_is p number b there) (judged_raises (seen_by number b p) tracks components orderly effects among)
