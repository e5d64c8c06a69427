-- What waits for a body stays as it is while the body runs.

use Rattle.std.proofs.Common.{◌≡◌, ℕ, suc, ◌≤◌, false, List, [], ◌∷◌, sym, subst, ◌⊎◌, inl, inr}
use Rattle.std.specs.Prelude.{Option, Some}
use Rattle.ada_deeds.specs.Implicit.{implicit_of}
use Rattle.ada_program.specs.declared.program.Program.{Program}
use Rattle.ada_program.specs.ProgramForm.{program_form, seen_in}
use Rattle.ada_meaning.specs.declared.state.Id.{Id}
use Rattle.ada_meaning.specs.declared.state.Value.{Value}
use Rattle.ada_meaning.specs.State.{Activation, height}
use Rattle.ada_meaning.specs.Step.{older}
use Rattle.ada_meaning.specs.Named.{Object, State, object_at}
use Rattle.ada_meaning.specs.Run.{Event}
use Rattle.ada_sound.specs.Agreement.{IsBehind, running_procedure}
use Rattle.ada_sound.proofs.Alters.{Alters}
use Rattle.ada_sound.proofs.Bodies.{IsBody}
use Rattle.ada_sound.proofs.Invariant.{Caller, AreSuspended, AllWait, OneAwaits, LiesBelow, LieBelow}
use Rattle.ada_sound.proofs.Callers.{Suspension, rest_of, callers_of, waits_plainly, AreOf, Stands}

-- From one state to the other the same body runs, and what waits for it stays as it is.
pub record SameBody (s after : State) : Type 0 where
  pub procedure : running_procedure after ≡ running_procedure s
  pub suspended : older after.activations ≡ older s.activations

-- Each object keeps its home, and its words stay back.
abbrev pub KeepsHomes : (before after : List Object) → Type 0
KeepsHomes before after =
    (o : Id) (x : Object) → object_at before o ≡ Some x → (y : Object) × (object_at after o ≡ Some y) × (y.cell.home ≡ x.cell.home) × (x.out ≡ false → y.out ≡ false)

-- So what lies below a number of items lies there.
lies_by : (before after : List Object) → KeepsHomes before after → (items : ℕ) (Around : Type 0) (o : Id) → LiesBelow before items Around o → LiesBelow after items Around o
lies_by before after home items Around o lies =
    let y = home o lies.0 lies.1 in
    (y.0, y.1, by y.0 y.2 y.3 lies.2)
  where
    by : (y : Object) → y.cell.home ≡ lies.0.cell.home → (lies.0.out ≡ false → y.out ≡ false) → (suc lies.0.cell.home.item ≤ items) ⊎ ((lies.0.out ≡ false) × Around) → (suc y.cell.home.item ≤ items) ⊎ ((y.out ≡ false) × Around)
    by y same back (inl low) = inl (rw same low)
    by y same back (inr around) = inr (back around.0, around.1)

-- What callers rely on lies where it lay.
pub low_by : (before after : List Object) → KeepsHomes before after → (callers : List Caller) → LieBelow before callers → LieBelow after callers
low_by before after home [] low = tt
low_by before after home (w ∷ ws) low = (
  (λ x o relied names. lies_by before after home (height w.masters) (OneAwaits ws) o (low.0 x o relied names)),
  (λ o t refers. lies_by before after home (height w.masters) (OneAwaits ws) o (low.1 o t refers)),
  (λ o is.
      let lies = low.2 o is in
      let y = home o lies.0 lies.1 in
      (y.0, y.1, rw y.2 lies.2)),
  low_by before after home ws low.3,
  (λ x o relied names. lies_by before after home (height w.masters) (OneAwaits ws) o (low.4 x o relied names)),
)

-- So it does behind a step.
pub low_kept : (before : List Object) (e : Event) (after : List Object) → Alters before e after → (callers : List Caller) → LieBelow before callers → LieBelow after callers
low_kept before e after a callers low = low_by before after (λ o x is. let y = a.kept o x is in (y.0, y.1, y.2.2, y.3)) callers low

-- A step that begins no call and ends none keeps what is known of callers.
module _ (program : Program) (s after : State) (gs : List Suspension) (stands : Stands program gs s) (e : Event) (same : SameBody s after) (alters : Alters s.heap e after.heap) where
  pub stands_kept : Stands program gs after
  stands_kept = record {
    body = subst (λ (procedure : Option ℕ). IsBody (program_form program) procedure) (sym same.procedure) stands.body;
    behind = subst (λ (procedure : Option ℕ). IsBehind procedure (rest_of gs)) (sym same.procedure) stands.behind;
    bodies = subst (λ (rest : List (Activation Value)). AreOf program rest gs) (sym same.suspended) stands.bodies;
    standing = record {
      suspended = subst (λ (rest : List (Activation Value)). AreSuspended rest (callers_of program gs)) (sym same.suspended) stands.standing.suspended;
      waiting = subst (λ (procedure : Option ℕ). AllWait (implicit_of (program_form program)) (seen_in procedure (program_form program)) (callers_of program gs)) (sym same.procedure) stands.standing.waiting;
      low = low_kept s.heap e after.heap alters (callers_of program gs) stands.standing.low;
    };
  }

-- The rest of the callers stand, too.
pub stands_behind : (program : Program) (g : Suspension) (gs : List Suspension) (a b : Activation Value) (rest : List (Activation Value)) (s : State) → Stands program (g ∷ gs) (record s { activations = a ∷ b ∷ rest }) → (after : State) → after.activations ≡ b ∷ rest → after.heap ≡ s.heap → Stands program gs after
stands_behind program g gs a b rest s stands after active heap =
    let of : running_procedure after ≡ g.procedure = rw active stands.bodies.0 in
    record {
      body = rw of stands.bodies.1;
      behind = rw of stands.bodies.2;
      bodies = rw active stands.bodies.3;
      standing = record {
        suspended = rw active stands.standing.suspended.1;
        waiting = subst (λ (procedure : Option ℕ). AllWait (implicit_of (program_form program)) (seen_in procedure (program_form program)) (callers_of program gs)) (sym of)
            (waits_plainly program g gs stands.bodies.4 (callers_of program gs) stands.standing.waiting.1);
        low = rw heap stands.standing.low.3;
      };
    }
