-- Each step keeps the invariant, and what its event tells.

use Rattle.std.proofs.Common.{◌≡◌, List, [], ◌∷◌, refl, sym, ap, ◌∙◌, subst}
use Rattle.ada_program.specs.declared.program.TypeDefinition.{TypeDefinition}
use Rattle.ada_program.specs.ProgramForm.{BodyForm}
use Rattle.ada_meaning.specs.declared.state.Value.{Value}
use Rattle.ada_meaning.specs.declared.state.Mode.{Mode}
use Rattle.ada_meaning.specs.declared.state.Mode.TheVariants.{Running, Raising, Exiting, Returning}
use Rattle.ada_meaning.specs.Frame.{Frame}
use Rattle.ada_meaning.specs.Frame as frame
use Rattle.ada_meaning.specs.Step.{at, operands, frame_next, running_next, jump_next, mode_next}
use Rattle.ada_meaning.specs.Named.{State, named, next}
use Rattle.ada_meaning.specs.Run.{Event}
use Rattle.ada_finalized.proofs.Doings.{Calm, doings, rest}
use Rattle.ada_finalized.proofs.Stacks.{Control, code, guard, finalization, Stack, nothing, calm, comes_back, operates, awaits, confines}
use Rattle.ada_finalized.proofs.Invariant.{Inv, Finding, AssignsThen, Stands, runs, finding, passing, ends_operation, beginning, ending, leaving, storing, Fits}
use Rattle.ada_finalized.proofs.Going.{next_is}
use Rattle.ada_finalized.proofs.Coding.{Leads, calm_leads, calls_leads, jump_leads, returns_lead, returns_jump, operation_ends, operation_jumps}
use Rattle.ada_finalized.proofs.Operating.{beginning_leads}
use Rattle.ada_finalized.proofs.Closing.{ending_leads, back_leads, storing_leads, guard_jumps, guard_leads}
use Rattle.ada_finalized.proofs.Finding.{finding_leads, passing_leads}

-- What comes next where a jump is on its way, and where nothing is left to do.
jump_is : (types : List TypeDefinition) (bodies : List BodyForm) (s : State) (mode : Mode) (k : Control) → s.mode ≡ mode → (mode ≡ Running → ⊥) → s.control ≡ k → next types bodies s ≡ jump_next named mode k s
unfolding next
jump_is types bodies s Running k is jumps c = absurd (jumps refl)
jump_is types bodies s (Raising e) k is jumps c = ap (λ (mode : Mode). mode_next named types bodies mode s) is ∙ ap (λ (j : Control). jump_next named (Raising e) j s) c
jump_is types bodies s Exiting k is jumps c = ap (λ (mode : Mode). mode_next named types bodies mode s) is ∙ ap (λ (j : Control). jump_next named Exiting j s) c
jump_is types bodies s Returning k is jumps c = ap (λ (mode : Mode). mode_next named types bodies mode s) is ∙ ap (λ (j : Control). jump_next named Returning j s) c

next_none : (types : List TypeDefinition) (bodies : List BodyForm) (s : State) → s.mode ≡ Running → s.control ≡ [] → next types bodies s ≡ running_next named types bodies [] s
unfolding next
next_none types bodies s running is =
    ap (λ (mode : Mode). mode_next named types bodies mode s) running ∙ ap (λ (c : Control). running_next named types bodies c s) is

module _ (types : List TypeDefinition) (bodies : List BodyForm) (past : List Event) (s : State) (inv : Inv types past s.heap s.next (doings s.control)) where
  by_frame : (f : Frame Value) (k : Control) → s.mode ≡ Running → s.control ≡ f ∷ k → Leads types past s (frame_next named types bodies f (at k s)) → Leads types past s (next types bodies s)
  by_frame f k running is h = subst (Leads types past s) (sym (next_is types bodies s f k running is)) h

  by_jump : (mode : Mode) (k : Control) → s.mode ≡ mode → (mode ≡ Running → ⊥) → s.control ≡ k → Leads types past s (jump_next named mode k s) → Leads types past s (next types bodies s)
  by_jump mode k is jumps c h = subst (Leads types past s) (sym (jump_is types bodies s mode k is jumps c)) h

  -- A frame of code.
  calm_runs : (f : Frame Value) (k : Control) → s.mode ≡ Running → s.control ≡ f ∷ k → Calm f → Stack types s.heap code s.activations k → Leads types past s (frame_next named types bodies f (at k s))
  calm_runs (frame.Calls procedure b actuals) k running is c h = calls_leads types past s (frame.Calls procedure b actuals) k is c h inv bodies procedure b actuals refl
  calm_runs (frame.Returns actuals references) k running is c h = absurd c
  calm_runs f k running is c h = calm_leads types past s f k is c h inv bodies running tt

  code_runs : (k : Control) → s.mode ≡ Running → s.control ≡ k → Stack types s.heap code s.activations k → Leads types past s (next types bodies s)
  code_runs _ running is nothing = subst (Leads types past s) (sym (next_none types bodies s running is)) tt
  code_runs _ running is (calm f k c h) = by_frame f k running is (calm_runs f k running is c h)
  code_runs _ running is (comes_back actuals references k h) =
      by_frame (frame.Returns actuals references) k running is (returns_lead types past s actuals references k is inv bodies h)
  code_runs _ running is (operates k h) = by_frame (frame.Returns [] []) k running is (operation_ends types past s k is inv h bodies)

  none_jumps : (mode : Mode) → Leads types past s (jump_next named mode [] s)
  none_jumps Running = tt
  none_jumps (Raising e) = tt
  none_jumps Exiting = tt
  none_jumps Returning = tt

  code_jumps : (mode : Mode) (k : Control) → s.mode ≡ mode → (mode ≡ Running → ⊥) → s.control ≡ k → Stack types s.heap code s.activations k → Leads types past s (next types bodies s)
  code_jumps mode _ is jumps c nothing = by_jump mode [] is jumps c (none_jumps mode)
  code_jumps mode _ is jumps c (calm f k calm_f h) = by_jump mode (f ∷ k) is jumps c (jump_leads types past s f k c calm_f h inv mode)
  code_jumps mode _ is jumps c (comes_back actuals references k h) =
      by_jump mode (frame.Returns actuals references ∷ k) is jumps c (returns_jump types past s actuals references k c inv mode h)
  code_jumps mode _ is jumps c (operates k h) = by_jump mode (frame.Returns [] [] ∷ k) is jumps c (operation_jumps types past s k c inv h mode)

  code_leads : (mode : Mode) → s.mode ≡ mode → Stack types s.heap code s.activations s.control → Leads types past s (next types bodies s)
  code_leads Running is h = code_runs s.control is refl h
  code_leads (Raising e) is h = code_jumps (Raising e) s.control is (λ never. absurd (cc never)) refl h
  code_leads Exiting is h = code_jumps Exiting s.control is (λ never. absurd (cc never)) refl h
  code_leads Returning is h = code_jumps Returning s.control is (λ never. absurd (cc never)) refl h

  -- The body of an operation has ended.
  guard_runs : (k : Control) → s.mode ≡ Running → s.control ≡ k → Stack types s.heap guard s.activations k → Leads types past s (next types bodies s)
  guard_runs [] running is h = absurd (guard_some [] h refl)
    where
      guard_some : (j : Control) → Stack types s.heap guard s.activations j → j ≡ [] → ⊥
      guard_some _ (awaits v by done of part tasks j some p h') e = absurd (cc e)
      guard_some _ (confines j some p h') e = absurd (cc e)
  guard_runs (f ∷ k) running is h = by_frame f k running is (guard_leads types past s inv bodies f k running is h)

  guard_passes : (mode : Mode) (k : Control) → s.mode ≡ mode → (mode ≡ Running → ⊥) → s.control ≡ k → Stack types s.heap guard s.activations k → Leads types past s (next types bodies s)
  guard_passes mode [] is jumps c h = by_jump mode [] is jumps c (none_jumps mode)
  guard_passes mode (f ∷ k) is jumps c h = by_jump mode (f ∷ k) is jumps c (guard_jumps types past s inv mode f k c h jumps)

  operation_leads : (mode : Mode) → s.mode ≡ mode → Stack types s.heap guard s.activations s.control → Leads types past s (next types bodies s)
  operation_leads Running is h = guard_runs s.control is refl h
  operation_leads (Raising e) is h = guard_passes (Raising e) s.control is (λ never. absurd (cc never)) refl h
  operation_leads Exiting is h = guard_passes Exiting s.control is (λ never. absurd (cc never)) refl h
  operation_leads Returning is h = guard_passes Returning s.control is (λ never. absurd (cc never)) refl h

  -- What is left of a finalization; where nothing is left to do, the run has ended.
  finalization_leads : (k : Control) → s.mode ≡ Running → s.control ≡ k → Stack types s.heap finalization s.activations k → Leads types past s (next types bodies s)
  finalization_leads [] running is h = subst (Leads types past s) (sym (next_none types bodies s running is)) tt
  finalization_leads (f ∷ k) running is h = by_frame f k running is (ending_leads types bodies past s running inv f k is h)

  -- The records of an assignment are found.
  found_leads :
      (k : Control) → s.mode ≡ Running → s.control ≡ k → Finding s.heap (operands s) k → AssignsThen types s.heap s.activations (rest k)
      → Leads types past s (next types bodies s)
  found_leads [] running is f after = absurd after
  found_leads (f ∷ k) running is h after = by_frame f k running is (finding_leads types past s inv bodies f k running is h after)

  stands_lead : Stands types s.heap s → Leads types past s (next types bodies s)
  stands_lead (runs h) = code_leads s.mode refl h
  stands_lead (finding running f after) = found_leads s.control running refl f after
  stands_lead (passing e raises p after) =
      by_jump (Raising e) s.control raises (λ never. absurd (cc never)) refl (passing_leads types past s inv e s.control raises refl p after)
  stands_lead (ends_operation h) = operation_leads s.mode refl h
  stands_lead (beginning o by done task tasks k running is h) =
      by_frame _ k running is (beginning_leads types bodies past s o by done task tasks k running is h inv)
  stands_lead (ending running h) = finalization_leads s.control running refl h
  stands_lead (leaving o x cause pool k running is own h at_o gone) =
      by_frame (frame.GivesBack _ cause pool) k running is (back_leads types bodies past s running inv o x cause pool k is own h at_o gone)
  stands_lead (storing o n to width tasks k running is h) =
      by_frame (frame.StoresRecord _ to width) _ running is (storing_leads types bodies past s running inv o n to width tasks k h is)

pub sound : (types : List TypeDefinition) (bodies : List BodyForm) (past : List Event) (s : State) → Fits types past s → Leads types past s (next types bodies s)
sound types bodies past s h = stands_lead types bodies past s h.inv h.stands
