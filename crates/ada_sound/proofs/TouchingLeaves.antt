-- The body of an operation that touches storage leaves a master of its own, which owns variables and record objects alone (7.6.1): no component is of the type
-- of such an object, and what its callers rely on lies in outer masters.

use Rattle.std.proofs.Common.{◌≡◌, true, false, List, ◌∷◌, ◌++◌, sym, subst}
use Rattle.std.specs.List.{list_all}
use Rattle.ada_program.specs.declared.program.Program.{Program}
use Rattle.ada_program.specs.ProgramForm.{TypeForm, program_form}
use Rattle.ada_program.specs.WellFormed.{type_fits}
use Rattle.ada_meaning.specs.declared.state.Mode.{Mode}
use Rattle.ada_meaning.specs.declared.state.Mode.TheVariants.{Running}
use Rattle.ada_meaning.specs.Frame.{Leaves}
use Rattle.ada_meaning.specs.Law.{items_of}
use Rattle.ada_meaning.specs.Named.{State}
use Rattle.ada_meaning.specs.State.{Master}
use Rattle.ada_meaning.specs.Step.{places_of, operands_of}
use Rattle.ada_scopes.proofs.Components.{items_fit}
use Rattle.ada_scopes.proofs.Homes.{ItemsFit}
use Rattle.ada_sound.proofs.Allowance.{allowance_of}
use Rattle.ada_sound.proofs.Callers.{known_in}
use Rattle.ada_sound.proofs.Touching.{Touching, operated_among}
use Rattle.ada_sound.proofs.TouchingGoes.{thrifty}
use Rattle.ada_sound.proofs.FrugalControl.{AreOwnedBy}
use Rattle.ada_sound.proofs.FrugalLeaves.{frugal_stays, held_in_none, leaves_own, owned_goes_well}
use Rattle.ada_sound.proofs.Grounds.{Grounds}
use Rattle.ada_sound.proofs.Invariant.{Control, ReadyIn, RunsOn, departs, departs_next, innermost, outers}
use Rattle.ada_sound.proofs.Leavings.{GoesWell, HeldIn, NamedBelow}
use Rattle.ada_sound.specs.Agreement.{running_procedure}
use Rattle.ada_sound.proofs.Below.{named_below}
use Rattle.ada_sound.proofs.Returns.{same_types}

-- The master that is left while the body of an operation that touches storage runs, or one since then, is one of the bodies' own.
pub leaves_owned : (program : Program) (s : State) (f : Touching program s) (left : Mode) (k : Control) → s.control ≡ Leaves left ∷ k
    → AreOwnedBy (allowance_of (program_form program)) (innermost s.masters)
leaves_owned program s f left k leaves =
    let w = f.within in
    let inner = leaves_own (thrifty program s f) w.outermost.behind (operated_among w.inner) s.mode left k w.frugal.upper w.outermost.lower (rw leaves at w.frugal.frugally) in
    rw w.frugal.masters inner

-- So its newest item goes well.
pub leaves_well : (program : Program) (s : State) → Grounds program s → (f : Touching program s) (left : Mode) (k : Control) → s.control ≡ Leaves left ∷ k
    → GoesWell (known_in program (running_procedure s) f.suspensions).program.types s.heap (innermost s.masters)
leaves_well program s grounds f left k leaves =
    let p = program_form program in
    subst (λ (types : List TypeForm). GoesWell types s.heap (innermost s.masters)) (sym (same_types (running_procedure s) p))
    (owned_goes_well (allowance_of p) p.types (λ may. grounds.well.types_fit) s.heap s.masters (leaves_owned program s f left k leaves) (items_fit p s grounds.nested))

-- While the body of an operation that touches storage runs, or one since then, the master that is left holds nothing but what lies in it; and what callers rely
-- on lies in outer ones.
pub touching_leaves : (program : Program) (s : State) → Grounds program s → (f : Touching program s) → s.mode ≡ Running → (left : Mode) (k : Control) → s.control ≡ Leaves left ∷ k
    → HeldIn s.heap s.masters × NamedBelow (outers (known_in program (running_procedure s) f.suspensions)) s.heap s.masters
touching_leaves program s grounds f runs left k leaves =
    let p = program_form program in
    let known = known_in program (running_procedure s) f.suspensions in
    let parting = rw (runs, leaves) at f.ready.1 in
    let more = RunsOn known (Leaves left ∷ k) in
    let fits : ItemsFit known.program.types (items_of s.masters) =
    subst (λ (types : List TypeForm). ItemsFit types (items_of s.masters)) (sym (same_types (running_procedure s) p)) (items_fit p s grounds.nested) in (
      held_in_none known s.heap _ s.masters more parting (allowance_of p) (leaves_owned program s f left k leaves) fits
          (λ may. subst (λ (types : List TypeForm). list_all (type_fits types) types ≡ true) (sym (same_types (running_procedure s) p)) grounds.well.types_fit),
      named_below known s.heap f.stands.standing.waiting f.stands.standing.low left k s.masters parting,
    )

-- So it is no collection that is left.
pub touching_stays : (program : Program) (s : State) (f : Touching program s) → s.mode ≡ Running → departs_next (departs (known_in program (running_procedure s) f.suspensions).ahead (innermost s.masters)) s.control ≡ false
touching_stays program s f runs =
    let w = f.within in
    let known = known_in program (running_procedure s) f.suspensions in
    let ready : ReadyIn known Running s.control s.heap (places_of s.activations) (operands_of s.activations) (w.frugal.upper ++ w.outermost.lower) = rw (runs, w.frugal.masters) at f.ready.1 in
    subst (λ (ms : List Master). departs_next (departs known.ahead (innermost ms)) s.control ≡ false) (sym w.frugal.masters)
    (frugal_stays known (thrifty program s f) w.outermost.behind (operated_among w.inner) s.mode s.control s.heap (places_of s.activations) (operands_of s.activations) w.frugal.upper w.outermost.lower w.frugal.frugally ready)
