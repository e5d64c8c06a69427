-- Each step leaves nothing to do that copies a record with controlled parts, and no copy that is adjusted, whatever is answered (7.6).

use Rattle.std.proofs.Common.{◌≡◌, ℕ, true, false, List, ◌∷◌, map, Some, refl}
use Rattle.std.specs.List.{list_any}
use Rattle.std.proofs.lemmas.Bool.{or_parts}
use Rattle.ada_program.specs.declared.program.TypeDefinition.{TypeDefinition}
use Rattle.ada_program.specs.declared.program.Exception.{Exception}
use Rattle.ada_program.specs.Form.{StmtForm, assigns_record, chooses, repeats, counts, encloses, StmtsForm, a_stmt, BranchesForm, otherwise, a_branch, HandlersForm, no_handlers, a_handler, DeclarationForm, declares_record}
use Rattle.ada_program.specs.Handling.{some_takes, handler_of}
use Rattle.ada_program.specs.ProgramForm.{TypeForm, type_form, BodyForm}
use Rattle.ada_parts.specs.declared.tasks.Direction.TheVariants.{PartsFirst}
use Rattle.ada_parts.specs.Task.{Task}
use Rattle.ada_quiet.specs.Idle.{has_parts as has_parts_in, holds_parts, declaration_makes_parts, declarations_make_parts, stmt_makes_parts, stmts_make_parts, branches_make_parts, handlers_make_parts, body_makes_parts}
use Rattle.ada_meaning.specs.declared.state.Value.{Value}
use Rattle.ada_meaning.specs.Frame.{Frame}
use Rattle.ada_meaning.specs.Frame as frame
use Rattle.ada_meaning.specs.Named.{State, next}
use Rattle.ada_meaning.specs.Step.{has_parts, all_tasks}
use Rattle.ada_idle.proofs.Heaps.{no_tasks, no_parts}
use Rattle.ada_idle.proofs.MakesNone.{none_of, make_none}
use Rattle.ada_idle.proofs.Frames.{is_plain, BranchesHold, handler_holds, IsClosed}
use Rattle.ada_idle.proofs.FrameSteps.{next_keeps}
use Rattle.ada_idle.proofs.Unadjusted.{FrameAdjustsNone, AdjustsNone, AllAdjustNone}

module _ (forms : List TypeForm) where
  -- Frames that hold no text and treat nothing copy none.
  plain_unadjusted : (f : Frame Value) → is_plain f ≡ true → FrameAdjustsNone forms f
  plain_unadjusted (frame.Elaborates ds fs hs) plain = absurd (cc plain)
  plain_unadjusted (frame.Does fs) plain = absurd (cc plain)
  plain_unadjusted (frame.Decides fs branches) plain = absurd (cc plain)
  plain_unadjusted (frame.Repeats condition fs) plain = absurd (cc plain)
  plain_unadjusted (frame.Turns condition fs) plain = absurd (cc plain)
  plain_unadjusted (frame.Ranges x fs) plain = absurd (cc plain)
  plain_unadjusted (frame.Counts x value last fs) plain = absurd (cc plain)
  plain_unadjusted (frame.Handles hs) plain = absurd (cc plain)
  plain_unadjusted (frame.Calls procedure b actuals) plain = absurd (cc plain)
  plain_unadjusted (frame.DeclaresRecord x t) plain = absurd (cc plain)
  plain_unadjusted (frame.Assigns t) plain = absurd (cc plain)
  plain_unadjusted (frame.Treats v treatment tasks) plain = absurd (cc plain)
  plain_unadjusted (frame.Awaits v by done of part tasks) plain = absurd (cc plain)
  plain_unadjusted f plain = tt

  -- Branches that copy none (5.3).
  branches_unadjusted : (branches : BranchesForm) → branches_make_parts forms true branches ≡ false → BranchesHold (FrameAdjustsNone forms) branches
  branches_unadjusted (otherwise fs) own = own
  branches_unadjusted (a_branch e fs branches) own = or_parts (stmts_make_parts forms true fs) (branches_make_parts forms true branches) own

  -- The handler that takes an exception copies none (11.2).
  handler_unadjusted : (e : Exception) (hs : HandlersForm) (fs : StmtsForm) → handlers_make_parts forms true hs ≡ false → handler_of e hs ≡ Some fs
      → stmts_make_parts forms true fs ≡ false
  handler_unadjusted e no_handlers fs own handled = absurd (cc handled)
  handler_unadjusted e (a_handler choices gs hs) fs own handled =
      let both = or_parts (stmts_make_parts forms true gs) (handlers_make_parts forms true hs) own in
      handler_holds (λ ws. stmts_make_parts forms true ws ≡ false) (some_takes e choices) gs fs (handler_of e hs) both.0 (handler_unadjusted e hs fs both.1) handled

  -- The declarations behind the first one copy none either (3.11).
  later_unadjusted : (d : DeclarationForm) (ds : List DeclarationForm) (fs : StmtsForm) (hs : HandlersForm)
      → FrameAdjustsNone forms (frame.Elaborates (d ∷ ds) fs hs) → FrameAdjustsNone forms (frame.Elaborates ds fs hs)
  later_unadjusted d ds fs hs own = ((or_parts (declaration_makes_parts forms true d) (declarations_make_parts forms true ds) own.0).1, own.1)

  -- The first statement copies none, and neither do those behind it (5.1).
  first_unadjusted : (f : StmtForm) (fs : StmtsForm) → stmts_make_parts forms true (a_stmt f fs) ≡ false
      → (stmt_makes_parts forms true f ≡ false) × (stmts_make_parts forms true fs ≡ false)
  first_unadjusted f fs own = or_parts (stmt_makes_parts forms true f) (stmts_make_parts forms true fs) own

  -- Where no part is to be treated, none is adjusted: a record object with an initial value has no controlled parts (3.3.1).
  copies_no_parts : (types : List TypeDefinition) → map type_form types ≡ forms → (t : ℕ) (task : Task) (tasks : List Task) → holds_parts forms t ≡ false
      → all_tasks types t PartsFirst ≡ task ∷ tasks → ⊥
  copies_no_parts types shown t task tasks none all = let empty = no_tasks forms types shown t PartsFirst none in cc (empty, all)

  -- A record that is assigned has no controlled parts (5.2).
  assigns_no_parts : (types : List TypeDefinition) → map type_form types ≡ forms → (t : ℕ) → has_parts_in forms (Some t) ≡ false → has_parts types t ≡ true → ⊥
  assigns_no_parts types shown t none parts = let no = no_parts forms types shown t none in cc (no, parts)

  -- What is left to do leads to no copy, in a program whose bodies copy none.
  pub unadjusted_closed : (types : List TypeDefinition) → map type_form types ≡ forms → (bodies : List BodyForm)
      → list_any (body_makes_parts forms true) bodies ≡ false → IsClosed types bodies (FrameAdjustsNone forms)
  unadjusted_closed types shown bodies each = record {
    plain = λ plain. plain_unadjusted _ plain;
    begins_body = λ procedure b at_body.
        make_none forms true b.declarations b.statements b.handlers (none_of (body_makes_parts forms true) bodies procedure b each at_body);
    begins_call = λ procedure b actuals own. make_none forms true b.declarations b.statements b.handlers own;
    elaborated = λ fs hs own. own.1;
    elaborates_on = later_unadjusted;
    declares_value = λ x right ds fs hs own. tt;
    declares_copy = λ x t items ds fs hs own.
        (or_parts (declaration_makes_parts forms true (declares_record x t (Some items))) (declarations_make_parts forms true ds) own.0).0;
    does_on = λ f fs own. (first_unadjusted f fs own).1;
    assigns_value = λ target right fs own. tt;
    assigns_in = λ target right fs c own. tt;
    assigns_parts = λ target items fs own parts.
        assigns_no_parts types shown target.record_type (first_unadjusted (assigns_record target items) fs own).0 parts;
    frees_in = λ access path fs c cs last own named_in. tt;
    chooses_one = λ branches fs own. branches_unadjusted branches (first_unadjusted (chooses branches) fs own).0;
    begins_loop = λ condition gs spot fs own. (first_unadjusted (repeats condition gs spot) fs own).0;
    begins_count = λ x low high gs spot fs own. (first_unadjusted (counts x low high gs spot) fs own).0;
    calls_body = λ procedure actuals b fs own at_body. none_of (body_makes_parts forms true) bodies procedure b each at_body;
    begins_block = λ ds gs hs fs own. make_none forms true ds gs hs (first_unadjusted (encloses ds gs hs) fs own).0;
    decides = λ fs branches own. (own.0, branches_unadjusted branches own.1);
    repeats_once = λ condition fs own. own;
    tests_turn = λ e fs own. own;
    turns_on = λ e fs own. own;
    counts_from = λ x low high fs own. own;
    counts_once = λ x value last fs own. own;
    counts_on = λ x value last next fs own. own;
    handles = handler_unadjusted;
    evaluates_nothing = tt;
    evaluates_path = λ path. tt;
    targets = λ c right own. tt;
    creates_filled = λ access count items own. tt;
    creates_default = λ access count own. tt;
    ends_any = λ v cause tasks. refl;
    creates_any = λ v tasks. refl;
    copies_parts = λ x t v task tasks own all. absurd (copies_no_parts types shown t task tasks own all);
    adjusts = λ t v number tasks own. absurd own;
    treats_on = λ v by done later tasks rest own. own;
    awaits = λ v by done of part tasks rest own. own;
    awaited = λ v by done later of part tasks rest own. own;
  }

-- Each step keeps that, whatever comes next.
pub next_unadjusted : (forms : List TypeForm) (types : List TypeDefinition) → map type_form types ≡ forms → (bodies : List BodyForm)
    → list_any (body_makes_parts forms true) bodies ≡ false → (s : State) → AdjustsNone forms s.control → AllAdjustNone forms (next types bodies s)
next_unadjusted forms types shown bodies each = next_keeps types bodies (FrameAdjustsNone forms) (unadjusted_closed forms types shown bodies each)
