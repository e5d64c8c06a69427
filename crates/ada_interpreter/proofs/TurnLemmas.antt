-- Turns that leave nothing open, and treatments that go on.

use Rattle.std.proofs.Common.{◌≡◌, ℕ, suc, true, false, List, [], ◌∷◌, ◌++◌, length, map, reverse, Option, Some, None, Result, Ok, Err, refl, sym, ap, ◌∙◌, inl, inr}
use Rattle.std.proofs.Math.ListN.{set}
use Rattle.std.specs.Prelude.{◌==◌}
use Rattle.std.specs.List.{slice_get}
use Rattle.std.specs.declared.alloc.AllocError.{AllocError}
use Rattle.std.proofs.lemmas.Bool.Decides.{eqb_tells}
use Rattle.std.proofs.lemmas.List.{map-append, reverse-append}
use Rattle.ada_parts.specs.Task.{Task}
use Rattle.ada_program.specs.declared.program.TypeDefinition.{TypeDefinition}
use Rattle.ada_meaning.specs.declared.state.Id.{Id}
use Rattle.ada_meaning.specs.declared.state.Stage.{Stage}
use Rattle.ada_meaning.specs.declared.state.Stage.TheVariants.{Building, Existing, Gone}
use Rattle.ada_meaning.specs.declared.state.Value.{Value}
use Rattle.ada_meaning.specs.Frame.{Frame, Treatment}
use Rattle.ada_meaning.specs.Frame as frame
use Rattle.ada_meaning.specs.Heap.{PartState}
use Rattle.ada_meaning.specs.Step.{treating}
use Rattle.ada_meaning.specs.Named.{State, Next, Object, object_at, changed, existing, seen, with_part, treated}
use Rattle.ada_interpreter.specs.declared.turn.Turn.{Turn}
use Rattle.ada_interpreter.specs.declared.turn.Turn.TheVariants.{Halts, Moves, Tells, Asks, Picks, PicksComponent}
use Rattle.ada_interpreter.specs.declared.treatment.Done.{Done}
use Rattle.ada_interpreter.specs.Objects.{part_in, part_at, with_part_state}
use Rattle.ada_interpreter.specs.Treatment.{done_part, done_parts}
use Rattle.ada_interpreter.specs.Process.{shown, Shows, Turns, TurnsOf}

-- a turn that leaves nothing open is one, whatever the types are
shown_of : (types : List TypeDefinition) (coming : Next) (turn : Turn) (after : State) → Shows turn after coming → shown types turn after ≡ coming
shown_of types coming (Halts halt) after is = is
shown_of types coming (Moves e) after is = is
shown_of types coming (Tells request e) after is = is
shown_of types coming (Asks a) after is = absurd is
shown_of types coming (Picks l) after is = absurd is
shown_of types coming (PicksComponent o) after is = absurd is

pub turns_of : (types : List TypeDefinition) (coming : Next) (before : State) (turn : Result Turn AllocError) (after : State) → Turns coming before turn after → TurnsOf types coming before turn after
turns_of types coming before (Ok turn) after is = record { shows = shown_of types coming turn after is.shows; stays = is.stays }
turns_of types coming before (Err e) after is = tt

-- what is left of a treatment
pub treating_none : (v : Value) (treatment : Treatment) (tasks : List Task) (k : List (Frame Value)) → (length tasks == 0) ≡ true → treating v treatment tasks k ≡ k
treating_none v treatment [] k is = refl
treating_none v treatment (task ∷ tasks) k is = elim (eqb_tells (suc (length tasks)) 0) [ inl h ↦ absurd (cc h.1) | inr h ↦ absurd (cc (sym is ∙ h.0)) ]

pub treating_some : (v : Value) (treatment : Treatment) (tasks : List Task) (k : List (Frame Value)) → (length tasks == 0) ≡ false → treating v treatment tasks k ≡ frame.Treats v treatment tasks ∷ k
treating_some v treatment [] k is = elim (eqb_tells 0 0) [ inl h ↦ absurd (cc (sym is ∙ h.0)) | inr h ↦ absurd (h.1 refl) ]
treating_some v treatment (task ∷ tasks) k is = refl

-- a part more has come to have its value, the newest
pub one_done : (done : List Done) (d : Done) → done_parts (done ++ d ∷ []) ≡ done_part d ∷ done_parts done
one_done done d = ap reverse (map-append done_part done (d ∷ [])) ∙ reverse-append (map done_part done) (done_part d ∷ [])

-- that part of an object that is found is its own
part_of : (x : Object) (stage : Stage) (part : ℕ) (p : PartState) → part_in (existing x stage) part ≡ Some p → slice_get x.cell.parts part ≡ Some p
part_of x Building part p e = e
part_of x Existing part p e = e
part_of x Gone part p e = absurd (cc e)

changed_by : (change : PartState → PartState) (part : ℕ) (p : PartState) (xs : List Object) (o : Id) (found : Option Object) → part_in (seen found) part ≡ Some p → changed (treated change part) found xs o ≡ changed (with_part_state part (change p)) found xs o
changed_by change part p xs o None e = refl
changed_by change part p xs o (Some x) e =
    ap (λ (found : Option PartState). set xs o.0 (record x { cell = record (x.cell) { parts = with_part change part found x.cell.parts } })) (part_of x x.stage part p e)

pub part_changed : (change : PartState → PartState) (part : ℕ) (p : PartState) (xs : List Object) (o : Id) → part_at xs o part ≡ Some p → changed (with_part_state part (change p)) (object_at xs o) xs o ≡ changed (treated change part) (object_at xs o) xs o
part_changed change part p xs o e = sym (changed_by change part p xs o (object_at xs o) e)
