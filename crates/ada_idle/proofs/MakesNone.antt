-- What makes nothing with controlled parts, or copies nothing with some, does so part by part: a body or a block, the bodies of a program, and the handlers in which
-- a jump lands (3.11, 11.2, 11.4).

use Rattle.std.proofs.Common.{◌≡◌, ℕ, Bool, true, false, ◌||◌, if◌then◌else◌, List, Option, Some}
use Rattle.std.specs.List.{list_any, slice_get}
use Rattle.std.proofs.lemmas.Bool.{false_from_ne_true, or_parts}
use Rattle.std.proofs.lemmas.Map.Keys.{any_passes_from_place}
use Rattle.ada_program.specs.declared.program.Exception.{Exception}
use Rattle.ada_program.specs.Form.{StmtsForm, DeclarationForm, HandlersForm, no_handlers, a_handler}
use Rattle.ada_program.specs.Handling.{some_takes, handler_of}
use Rattle.ada_program.specs.ProgramForm.{TypeForm}
use Rattle.ada_quiet.specs.Idle.{declarations_make_parts, stmts_make_parts, handlers_make_parts}
use Rattle.ada_meaning.specs.declared.state.Value.{Value}
use Rattle.ada_meaning.specs.Frame.{Landing, passes_on, goes_behind, goes_in, breaks_off, escapes, handler_landing}

-- What no element passes, that of a place does not.
pub none_of : {X : Type 0} (test : X → Bool) (xs : List X) (i : ℕ) (x : X) → list_any test xs ≡ false → slice_get xs i ≡ Some x → test x ≡ false
none_of test xs i x none there = false_from_ne_true (test x) (λ is. let some = any_passes_from_place test xs i x there is in cc (some, none))

module _ (forms : List TypeForm) (copies : Bool) where
  -- The declarations, statements and handlers of a body, or a block, that makes none.
  abbrev pub MakeNone : List DeclarationForm → StmtsForm → HandlersForm → Type 0
  MakeNone ds fs hs =
      (declarations_make_parts forms copies ds ≡ false) × ((stmts_make_parts forms copies fs ≡ false) × (handlers_make_parts forms copies hs ≡ false))

  pub make_none : (ds : List DeclarationForm) (fs : StmtsForm) (hs : HandlersForm)
      → (declarations_make_parts forms copies ds || stmts_make_parts forms copies fs || handlers_make_parts forms copies hs) ≡ false → MakeNone ds fs hs
  make_none ds fs hs own =
      let outer = or_parts (declarations_make_parts forms copies ds || stmts_make_parts forms copies fs) (handlers_make_parts forms copies hs) own in
      let inner = or_parts (declarations_make_parts forms copies ds) (stmts_make_parts forms copies fs) outer.0 in
      (inner.0, (inner.1, outer.1))

  module _ (Breaks : Type 0) where
    -- A jump lands in statements that make none, if it lands in any; and where it comes out of an operation that was to begin a part, this holds.
    abbrev pub LandsWell : Landing Value → Type 0
    LandsWell passes_on = Unit {0}
    LandsWell goes_behind = Unit {0}
    LandsWell (goes_in fs) = stmts_make_parts forms copies fs ≡ false
    LandsWell (breaks_off v by done) = Breaks
    LandsWell escapes = Unit {0}

    -- An exception lands in the statements of a handler (11.2).
    handler_lands : (takes : Bool) (fs : StmtsForm) (later : Option StmtsForm) → stmts_make_parts forms copies fs ≡ false → LandsWell (handler_landing later)
        → LandsWell (handler_landing (if takes then Some fs else later))
    handler_lands true fs later one more = one
    handler_lands false fs later one more = more

    pub handlers_land : (e : Exception) (hs : HandlersForm) → handlers_make_parts forms copies hs ≡ false → LandsWell (handler_landing (handler_of e hs))
    handlers_land e no_handlers own = tt
    handlers_land e (a_handler choices fs hs) own =
        let both = or_parts (stmts_make_parts forms copies fs) (handlers_make_parts forms copies hs) own in
        handler_lands (some_takes e choices) fs (handler_of e hs) both.0 (handlers_land e hs both.1)

    -- An exit or a return lands behind its loop or its call.
    pub exit_lands : (ends_here : Bool) (otherwise_at : Landing Value) → LandsWell otherwise_at → LandsWell (if ends_here then goes_behind else otherwise_at)
    exit_lands true otherwise_at lands = tt
    exit_lands false otherwise_at lands = lands
