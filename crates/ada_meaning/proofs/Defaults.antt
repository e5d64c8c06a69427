-- What the objects of allocators without items hold when they come to be.

use Rattle.std.proofs.Common.{◌≡◌, ℕ, suc, subst, true, List, [], ◌∷◌, ◌++◌, length, map, take, reverse, refl, sym, ap, ◌∙◌}
use Rattle.std.specs.Prelude.{Option, Some, None}
use Rattle.std.proofs.lemmas.List.{reverse-reverse, length-reverse, append_assoc}
use Rattle.std.proofs.Math.Seq.{take-append_seam}
use Rattle.std.proofs.lemmas.Grind.{reverse_onto}
use Rattle.ada_program.specs.declared.program.ComponentKind.{ComponentKind}
use Rattle.ada_program.specs.declared.program.ComponentKind.TheVariants as component
use Rattle.ada_program.specs.declared.program.TypeDefinition.{TypeDefinition}
use Rattle.ada_program.specs.Form.{allocates_default, DeclarationForm, declares_record, StmtsForm, HandlersForm}
use Rattle.ada_program.specs.ProgramForm.{BodyForm, body_forms}
use Rattle.ada_program.specs.Typed.{reached_of}
use Rattle.ada_meaning.specs.declared.state.Value.{Value}
use Rattle.ada_meaning.specs.declared.state.Mode.TheVariants.{Running}
use Rattle.ada_meaning.specs.declared.event.Birth.TheVariants.{Creation}
use Rattle.ada_meaning.specs.Event.{Quiet}
use Rattle.ada_meaning.specs.Frame.{Frame, Elaborates, Evaluates, Creates}
use Rattle.ada_meaning.specs.State.{Activation, Destination, home_of, height}
use Rattle.ada_meaning.specs.Step.{at, moves, new_next, new_cell, in_front, initial_value, initial_values, made, record_cell}
use Rattle.ada_meaning.specs.Run.{Event, grants, Leads}
use Rattle.ada_meaning.specs.Named.{Object, new_object, State, named, next}
use Rattle.ada_meaning.specs.Defaults.{HoldsAtFirst, HoldAtFirst, MakesByDefault, MakesRecords}

-- What is kept newest first is taken back in order.
pub kept_in_front : (vs os : List Value) → in_front vs os ≡ reverse vs ++ os
kept_in_front [] os = refl
kept_in_front (v ∷ vs) os = kept_in_front vs (v ∷ os) ∙ sym (append_assoc (reverse vs) (v ∷ []) os) ∙ ap (λ us. us ++ os) (sym (reverse_onto vs v []))

pub taken_back : (vs os : List Value) → reverse (take (length vs) (in_front vs os)) ≡ vs
taken_back vs os =
    let front : take (length (reverse vs)) (reverse vs ++ os) ≡ reverse vs = take-append_seam (reverse vs) os in
    ap (λ us. reverse (take (length vs) us)) (kept_in_front vs os) ∙
    ap (λ n. reverse (take n (reverse vs ++ os))) (sym (length-reverse vs)) ∙
    ap reverse front ∙ reverse-reverse vs

counted : (kinds : List ComponentKind) → length (map (initial_value named) kinds) ≡ length kinds
counted [] = refl
counted (kind ∷ kinds) = ap suc (counted kinds)

-- What is kept for a component is what it holds at first.
holds_at_first : (kind : ComponentKind) → HoldsAtFirst kind (initial_value named kind)
holds_at_first (component.Integer initial) = refl
holds_at_first (component.Boolean initial) = refl
holds_at_first (component.Access access) = refl

hold_at_first : (kinds : List ComponentKind) → HoldAtFirst kinds (map (initial_value named) kinds)
hold_at_first [] = tt
hold_at_first (kind ∷ kinds) = (holds_at_first kind, hold_at_first kinds)

-- The components that the new object takes.
filled : (kinds : List ComponentKind) (operands : List Value) → HoldAtFirst kinds (reverse (take (length kinds) (in_front (map (initial_value named) kinds) operands)))
filled kinds operands =
    let vs = map (initial_value named) kinds in
    let same : reverse (take (length kinds) (in_front vs operands)) ≡ vs = ap (λ n. reverse (take n (in_front vs operands))) (sym (counted kinds)) ∙ taken_back vs operands in
    subst (HoldAtFirst kinds) (sym same) (hold_at_first kinds)

module _ (types : List TypeDefinition) (bodies : List BodyForm) (access : ℕ) (behind : List (Frame Value))
    (running : Activation Value) (suspended : List (Activation Value)) where
  -- The state once the initial values are kept.
  abbrev ready_to_create : List ComponentKind → State → State
  ready_to_create kinds s = at (Creates access (length kinds) ∷ behind) (record s { mode = Running; activations = record running { operands = in_front (map (initial_value named) kinds) running.operands } ∷ suspended })

  first_step :
      (kinds : List ComponentKind) (s : State) → reached_of types access ≡ Some kinds → s.mode ≡ Running
      → s.control ≡ Evaluates (allocates_default access) ∷ behind → s.activations ≡ running ∷ suspended
      → next types bodies s ≡ moves Quiet (ready_to_create kinds s)
  unfolding next
  first_step kinds s reached runs is active = rw (runs, is, active, reached) refl

  granted_makes :
      (kinds : List ComponentKind) (s after : State) (home : Option Destination) (e : Event)
      → Leads (new_next named types access (length kinds) (length kinds) home (at behind (ready_to_create kinds s))) (grants true) e after
      → (object : Object) × (after.heap ≡ s.heap ++ object ∷ []) × (object.cell.access ≡ access) × HoldAtFirst kinds object.cell.values
  granted_makes kinds s after None e leads = absurd leads
  granted_makes kinds s after (Some home) e leads =
      let cell = new_cell named types access (length kinds) home (at behind (ready_to_create kinds s)) in
      (new_object cell, ap (λ (t : State). t.heap) leads.1, refl, filled kinds running.operands)

  second_step :
      (kinds : List ComponentKind) (s after : State) (e : Event) → reached_of types access ≡ Some kinds
      → Leads (next types bodies (ready_to_create kinds s)) (grants true) e after
      → (object : Object) × (after.heap ≡ s.heap ++ object ∷ []) × (object.cell.access ≡ access) × HoldAtFirst kinds object.cell.values
  unfolding next
  second_step kinds s after e reached leads =
      granted_makes kinds s after (home_of access s.masters) e (rw reached at leads)

pub makes_by_default : MakesByDefault
makes_by_default program access kinds behind before mid after running suspended first second reached runs is active one two =
    let moved = rw (first_step program.types.items (body_forms program) access behind running suspended kinds before reached runs is active) at one in
    second_step program.types.items (body_forms program) access behind running suspended kinds before after second reached
    (rw moved.1 at two)

-- A record object is made in one step.
module _ (types : List TypeDefinition) (bodies : List BodyForm) (x t : ℕ) (ds : List DeclarationForm)
    (fs : StmtsForm) (hs : HandlersForm) (behind : List (Frame Value)) where
  record_step :
      (s : State) → s.mode ≡ Running → s.control ≡ Elaborates (declares_record x t None ∷ ds) fs hs ∷ behind
      → next types bodies s ≡ moves Quiet (made named types x t Creation (initial_values named (reached_of types t)) (at (Elaborates ds fs hs ∷ behind) s))
  unfolding next
  record_step s runs is = rw (runs, is) refl

pub makes_records : MakesRecords
makes_records program x t kinds ds fs hs behind before after running suspended event reached runs is active step =
    let moved = rw (record_step program.types.items (body_forms program) x t ds fs hs behind before runs is) at step in
    let cell = record_cell named program.types.items t (height before.masters) (initial_values named (reached_of program.types.items t)) in
    (new_object cell, ap (λ (u : State). u.heap) moved.1, refl, refl, rw (reached) (hold_at_first kinds), ap (λ (u : State). u.activations) moved.1 ∙ rw (active) refl)
