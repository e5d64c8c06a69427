-- The law, and a body that it speaks of.

use Rattle.std.proofs.Common.{◌≡◌, ℕ, zero, suc, true, false, List, [], ◌∷◌, Some, None, refl, sym, ap, subst, arith}
use Rattle.std.specs.Prelude.{is_some}
use Rattle.std.specs.List.{slice_get}
use Rattle.ada_program.specs.declared.program.ComponentKind.TheVariants as component
use Rattle.ada_program.specs.declared.program.FormalMode.TheVariants.{InOut}
use Rattle.ada_program.specs.declared.program.PartKind.TheVariants as part
use Rattle.ada_program.specs.declared.program.VariableKind.TheVariants as variable
use Rattle.ada_program.specs.Form.{PathForm, nothing, value_of, allocates_default, declares, assigns, StmtsForm, no_stmts, a_stmt, no_handlers, HandlersForm, BranchesForm}
use Rattle.ada_program.specs.ProgramForm.{TypeForm, record_of, access_to, object_of, VariableForm, BodyForm, nowhere}
use Rattle.ada_program.specs.WellFormed.{variable_kind, selected_kind}
use Rattle.ada_effects.specs.Effects.{Effects, no_calls, passes}
use Rattle.ada_flow.specs.declared.rule.Hold.TheVariants.{Null, Alias, Lost}
use Rattle.ada_flow.specs.declared.rule.Region.TheVariants.{Whole}
use Rattle.ada_flow.specs.Tracking.{Tracks, no_tracks}
use Rattle.ada_flow.specs.Flow.{Holds, Outcome, then_flow, Gone, gone_with, leaves_block, handled, Around, Keeping, declarations_flow, stmts_flow, branches_flow, handlers_flow, ends_body, owed_at_ends, holds_at_first, body_around, judged_flow}
use Rattle.ada_tracked.specs.Forms.{seen_declarations, seen_stmts, seen_branches, seen_handlers}
use Rattle.ada_judged.specs.Obeying.{StatementsAreOrderly, BranchesAreOrderly, HandlersAreOrderly, BodyIsOrderly, StandForTracked, GoesAlike, around_judged, judged_body, untracked_flow, TrackedComponentsObeyAsVariables, ObeyingIsMet}
use Rattle.ada_judged.proofs.ObeyingOutcomes.{within_alike}
use Rattle.ada_judged.proofs.ObeyingJudged.{judged_stand}
use Rattle.ada_judged.proofs.ObeyingForms.{gone_alike}
use Rattle.ada_judged.proofs.ObeyingStatements.{declarations_alike, block_alike, stmts_alike, branches_alike, handlers_alike}

module _ (types : List TypeForm) (variables : List VariableForm) (tracks : Tracks) (stand : StandForTracked types variables tracks) where
  -- What is around forms where these components are tracked.
  same_around : (around : Around) → around.tracks ≡ tracks → record around { tracks = tracks } ≡ around
  same_around around e = ap (λ (t : Tracks). record around { tracks = t }) (sym e)

  statements_obey :
      (around : Around) (fs : StmtsForm) (holds : Holds) → around.tracks ≡ tracks → StatementsAreOrderly tracks fs
      → GoesAlike (stmts_flow types variables around fs holds) (stmts_flow types variables (around_judged around) (seen_stmts tracks fs) holds)
  statements_obey around fs holds e h =
      subst (λ (a : Around). GoesAlike (stmts_flow types variables a fs holds) (stmts_flow types variables (around_judged around) (seen_stmts tracks fs) holds))
      (same_around around e) (stmts_alike types variables tracks stand fs around holds h)

  branches_obey :
      (around : Around) (bs : BranchesForm) (holds : Holds) → around.tracks ≡ tracks → BranchesAreOrderly tracks bs
      → GoesAlike (branches_flow types variables around bs holds) (branches_flow types variables (around_judged around) (seen_branches tracks bs) holds)
  branches_obey around bs holds e h =
      subst (λ (a : Around). GoesAlike (branches_flow types variables a bs holds) (branches_flow types variables (around_judged around) (seen_branches tracks bs) holds))
      (same_around around e) (branches_alike types variables tracks stand bs around holds h)

  handlers_obey :
      (around : Around) (hs : HandlersForm) (holds : Holds) → around.tracks ≡ tracks → HandlersAreOrderly tracks hs
      → GoesAlike (handlers_flow types variables around hs holds) (handlers_flow types variables (around_judged around) (seen_handlers tracks hs) holds)
  handlers_obey around hs holds e h =
      subst (λ (a : Around). GoesAlike (handlers_flow types variables a hs holds) (handlers_flow types variables (around_judged around) (seen_handlers tracks hs) holds))
      (same_around around e) (handlers_alike types variables tracks stand hs around holds h)

  -- A whole body.
  abbrev inner : Effects → List Keeping → BodyForm → Gone → Outcome
  inner effects kept b gone =
      then_flow (declarations_flow types variables no_tracks effects.implicit (seen_declarations tracks b.declarations) (holds_at_first tracks b.formals b.variables))
      (λ at. handled (passes effects (seen_stmts tracks b.statements) (seen_handlers tracks b.handlers))
      (handlers_flow types variables (record (around_judged (body_around effects kept tracks b)) { within = gone }) (seen_handlers tracks b.handlers))
      (stmts_flow types variables (record (around_judged (body_around effects kept tracks b)) { within = gone }) (seen_stmts tracks b.statements) at))

  abbrev outer : Effects → List Keeping → BodyForm → Gone → Outcome
  outer effects kept b gone = ends_body (owed_at_ends tracks b.formals b.variables) b.end_spot (leaves_block variables gone (inner effects kept b gone))

  body_obeys :
      (effects : Effects) (kept : List Keeping) (b : BodyForm) → BodyIsOrderly tracks b
      → GoesAlike (judged_flow types variables effects kept tracks b) (untracked_flow types variables effects kept tracks (judged_body tracks b))
  body_obeys effects kept b h =
      let around = body_around effects kept tracks b in
      let real = then_flow (declarations_flow types variables tracks effects.implicit b.declarations (holds_at_first tracks b.formals b.variables))
      (λ at. handled (passes effects b.statements b.handlers) (handlers_flow types variables around b.handlers) (stmts_flow types variables around b.statements at)) in
      subst (λ (gone : Gone). GoesAlike (judged_flow types variables effects kept tracks b) (outer effects kept b gone)) (sym (gone_alike tracks b.declarations))
      (within_alike (λ o. ends_body (owed_at_ends tracks b.formals b.variables) b.end_spot (leaves_block variables (gone_with b.declarations) o)) (λ spot rule normal raising e. cc)
      real (inner effects kept b (gone_with b.declarations))
      (block_alike types variables tracks stand around b.declarations b.statements b.handlers (holds_at_first tracks b.formals b.variables) h.declarations h.statements
      (λ a at. stmts_alike types variables tracks stand b.statements a at h.statements) (λ a at. handlers_alike types variables tracks stand b.handlers a at h.handlers) effects.implicit))

-- The law.
pub obey_as_variables : TrackedComponentsObeyAsVariables
obey_as_variables types variables tracks stand = record {
  statements = statements_obey types variables tracks stand;
  branches = branches_obey types variables tracks stand;
  handlers = handlers_obey types variables tracks stand;
  declarations = λ implicit ds holds h. declarations_alike types variables tracks stand implicit ds holds h;
  body = body_obeys types variables tracks stand;
}

-- A record type with a component of an access type, which has an Adjust of its own.
abbrev types : List TypeForm
types =
    record_of []
    (record { name = []; kind = part.Elementary (component.Access (record { 0 = 1 })); first = 0; part = 0 } ∷ [])
    (component.Access (record { 0 = 1 }) ∷ [])
    (Some (record {
      number = record { 0 = 0 };
      parts = 1;
      limited = false;
      operations = record { initialize = None; adjust = Some (record { 0 = 0 }); finalize = None };
    }))
    ∷ access_to [] 0 None ∷ object_of 0 ∷ []

abbrev component_path : PathForm
component_path = record { root = 0; of_record = true; selectors = 0 ∷ []; spot = nowhere }

abbrev variable_path : PathForm
variable_path = record { root = 1; of_record = false; selectors = []; spot = nowhere }

-- Its Adjust gives the component a new object, and takes that out again.
abbrev body : BodyForm
body = record {
  formals = InOut ∷ [];
  variables =
      record { name = []; spot = nowhere; kind = variable.Record (record { 0 = 2 }); borrows = false }
      ∷ record { name = []; spot = nowhere; kind = variable.Access (record { 0 = 1 }); borrows = false } ∷ [];
  declarations = declares 1 nothing ∷ [];
  statements =
      a_stmt (assigns component_path (allocates_default 1))
      (a_stmt (assigns variable_path (value_of component_path)) (a_stmt (assigns component_path nothing) no_stmts));
  handlers = no_handlers;
  start_spot = nowhere;
  end_spot = nowhere;
}

abbrev tracks : Tracks
tracks = record { first = 2; components = 0 ∷ [] }

selected : (i c : ℕ) → slice_get tracks.components i ≡ Some c → is_some (selected_kind types (variable_kind body.variables 0) c) ≡ true
selected zero zero e = refl
selected zero (suc c) e = absurd (cc)
selected (suc i) c e = absurd (cc)

pub obeying_is_met : ObeyingIsMet
obeying_is_met = (
  types,
  0,
  no_calls,
  [],
  body,
  Some (Alias Whole ∷ Lost ∷ Null ∷ []),
  Some (Alias Whole ∷ Lost ∷ Alias Whole ∷ []),
  record {
    stand = judged_stand types (record { 0 = 2 }) body.variables tracks.components refl selected;
    orderly = record {
      declarations = (((omega arith, omega arith), tt), tt);
      statements = (
        ((omega arith, λ e. refl), tt),
        ((((omega arith, omega arith), λ e. absurd (omega (arith, e))), (omega arith, λ e. refl)), (((omega arith, λ e. refl), tt), tt)),
      );
      handlers = tt;
    };
    goes_through = refl;
    first = assigns component_path (allocates_default 1);
    target = variable_path;
    path = component_path;
    rest = a_stmt (assigns component_path nothing) no_stmts;
    statements = refl;
    tracked = refl;
    pair = refl;
  },
)
