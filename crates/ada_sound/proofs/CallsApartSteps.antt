-- Procedures that track stand apart in what is left to do behind each step, whatever is answered.

use Rattle.std.proofs.Common.{◌≡◌, ℕ, Bool, true, List, ◌∷◌, Some, refl}
use Rattle.std.specs.List.{list_all}
use Rattle.std.proofs.lemmas.Bool.{and_parts, not-true}
use Rattle.ada_program.specs.declared.program.TypeDefinition.{TypeDefinition}
use Rattle.ada_program.specs.declared.program.Exception.{Exception}
use Rattle.ada_program.specs.Form.{StmtForm, assigns, chooses, repeats, counts, calls, encloses, StmtsForm, a_stmt, BranchesForm, otherwise, a_branch, HandlersForm, no_handlers, a_handler, DeclarationForm, declares}
use Rattle.ada_program.specs.Handling.{some_takes, handler_of}
use Rattle.ada_program.specs.ProgramForm.{TypeForm, BodyForm}
use Rattle.ada_quiet.specs.Apart.{declares_apart, declare_apart, calls_apart, all_call_apart, branches_call_apart, handlers_call_apart, body_calls_apart}
use Rattle.ada_meaning.specs.declared.state.Value.{Value}
use Rattle.ada_meaning.specs.Frame.{Frame}
use Rattle.ada_meaning.specs.Frame as frame
use Rattle.ada_meaning.specs.Named.{State, next}
use Rattle.ada_idle.proofs.Frames.{is_plain, BranchesHold, handler_holds, IsClosed}
use Rattle.ada_idle.proofs.FrameSteps.{next_keeps}
use Rattle.ada_sound.proofs.OnlyParts.{passed_at}
use Rattle.ada_sound.proofs.CallsApart.{ElaboratesApart, FrameCallsApart, CallApart, AllCallApart, elaborates_apart}

module _ (forms : List TypeForm) (tracks : ℕ → Bool) where
  -- Frames that hold no text stand apart.
  plain_apart : (f : Frame Value) → is_plain f ≡ true → FrameCallsApart forms tracks f
  plain_apart (frame.Elaborates ds fs hs) plain = absurd (cc plain)
  plain_apart (frame.Does fs) plain = absurd (cc plain)
  plain_apart (frame.Decides fs branches) plain = absurd (cc plain)
  plain_apart (frame.Repeats condition fs) plain = absurd (cc plain)
  plain_apart (frame.Turns condition fs) plain = absurd (cc plain)
  plain_apart (frame.Ranges x fs) plain = absurd (cc plain)
  plain_apart (frame.Counts x value last fs) plain = absurd (cc plain)
  plain_apart (frame.Handles hs) plain = absurd (cc plain)
  plain_apart (frame.Calls procedure b actuals) plain = absurd (cc plain)
  plain_apart (frame.Evaluates right) plain = absurd (cc plain)
  plain_apart (frame.Targets c right) plain = absurd (cc plain)
  plain_apart f plain = tt

  -- Branches that call none of them (5.3).
  branches_apart : (branches : BranchesForm) → branches_call_apart forms tracks branches ≡ true → BranchesHold (FrameCallsApart forms tracks) branches
  branches_apart (otherwise fs) own = own
  branches_apart (a_branch e fs branches) own = and_parts (all_call_apart forms tracks fs) (branches_call_apart forms tracks branches) own

  -- The handler that takes an exception calls none of them (11.2).
  handler_apart : (e : Exception) (hs : HandlersForm) (fs : StmtsForm) → handlers_call_apart forms tracks hs ≡ true → handler_of e hs ≡ Some fs
      → all_call_apart forms tracks fs ≡ true
  handler_apart e no_handlers fs own handled = absurd (cc handled)
  handler_apart e (a_handler choices gs hs) fs own handled =
      let both = and_parts (all_call_apart forms tracks gs) (handlers_call_apart forms tracks hs) own in
      handler_holds (λ ws. all_call_apart forms tracks ws ≡ true) (some_takes e choices) gs fs (handler_of e hs) both.0 (handler_apart e hs fs both.1) handled

  -- The first declaration, and those behind it (3.11).
  declared_apart : (d : DeclarationForm) (ds : List DeclarationForm) (fs : StmtsForm) (hs : HandlersForm) → ElaboratesApart forms tracks (d ∷ ds) fs hs
      → (declares_apart forms d ≡ true) × (declare_apart forms ds ≡ true)
  declared_apart d ds fs hs own = and_parts (declares_apart forms d) (declare_apart forms ds) own.0

  -- The first statement, and those behind it (5.1).
  first_apart : (f : StmtForm) (fs : StmtsForm) → all_call_apart forms tracks (a_stmt f fs) ≡ true
      → (calls_apart forms tracks f ≡ true) × (all_call_apart forms tracks fs ≡ true)
  first_apart f fs own = and_parts (calls_apart forms tracks f) (all_call_apart forms tracks fs) own

  -- What is left to do leads to no call of them, in a program whose bodies call none.
  calls_apart_closed : (types : List TypeDefinition) (bodies : List BodyForm) → list_all (body_calls_apart forms tracks) bodies ≡ true
      → IsClosed types bodies (FrameCallsApart forms tracks)
  calls_apart_closed types bodies each = record {
    plain = λ plain. plain_apart _ plain;
    begins_body = λ procedure b at_body.
        elaborates_apart forms tracks b.declarations b.statements b.handlers (passed_at (body_calls_apart forms tracks) bodies procedure b each at_body);
    begins_call = λ procedure b actuals own. elaborates_apart forms tracks b.declarations b.statements b.handlers own.1;
    elaborated = λ fs hs own. own.1;
    elaborates_on = λ d ds fs hs own. ((declared_apart d ds fs hs own).1, own.1);
    declares_value = λ x right ds fs hs own. (declared_apart (declares x right) ds fs hs own).0;
    declares_copy = λ x t items ds fs hs own. tt;
    does_on = λ f fs own. (first_apart f fs own).1;
    assigns_value = λ target right fs own. (first_apart (assigns target right) fs own).0;
    assigns_in = λ target right fs c own. (first_apart (assigns target right) fs own).0;
    assigns_parts = λ target items fs own parts. tt;
    frees_in = λ access path fs c cs last own inside. tt;
    chooses_one = λ branches fs own. branches_apart branches (first_apart (chooses branches) fs own).0;
    begins_loop = λ condition gs spot fs own. (first_apart (repeats condition gs spot) fs own).0;
    begins_count = λ x low high gs spot fs own. (first_apart (counts x low high gs spot) fs own).0;
    calls_body = λ procedure actuals b fs own at_body.
        (not-true (tracks procedure) (first_apart (calls procedure actuals) fs own).0, passed_at (body_calls_apart forms tracks) bodies procedure b each at_body);
    begins_block = λ ds gs hs fs own. elaborates_apart forms tracks ds gs hs (first_apart (encloses ds gs hs) fs own).0;
    decides = λ fs branches own. (own.0, branches_apart branches own.1);
    repeats_once = λ condition fs own. own;
    tests_turn = λ e fs own. own;
    turns_on = λ e fs own. own;
    counts_from = λ x low high fs own. own;
    counts_once = λ x value last fs own. own;
    counts_on = λ x value last next fs own. own;
    handles = handler_apart;
    evaluates_nothing = refl;
    evaluates_path = λ path. refl;
    targets = λ c right own. own;
    creates_filled = λ access count items own. tt;
    creates_default = λ access count own. tt;
    ends_any = λ v cause tasks. tt;
    creates_any = λ v tasks. tt;
    copies_parts = λ x t v task tasks own all. tt;
    adjusts = λ t v number tasks own. tt;
    treats_on = λ v by done later tasks rest own. tt;
    awaits = λ v by done of part tasks rest own. tt;
    awaited = λ v by done later of part tasks rest own. tt;
  }

-- Each step leaves them apart, whatever comes next.
pub calls_stay_apart : (types : List TypeDefinition) (bodies : List BodyForm) (forms : List TypeForm) (tracks : ℕ → Bool)
    → list_all (body_calls_apart forms tracks) bodies ≡ true
    → (s : State) → CallApart forms tracks s.control → AllCallApart forms tracks (next types bodies s)
calls_stay_apart types bodies forms tracks each =
    next_keeps types bodies (FrameCallsApart forms tracks) (calls_apart_closed forms tracks types bodies each)
