-- A typed state stays so where components of access types hold null that an object has (7.6): null is of every access type.

use Rattle.std.proofs.Common.{◌≡◌, ℕ, List, [], ◌∷◌, Option, Some, sym, ap, ◌∙◌, subst}
use Rattle.std.specs.List.{Contains}
use Rattle.ada_program.specs.declared.program.ComponentKind.{ComponentKind}
use Rattle.ada_program.specs.declared.program.TypeNo.{TypeNo}
use Rattle.ada_program.specs.declared.program.VariableKind.TheVariants as variable
use Rattle.ada_program.specs.ProgramForm.{ProgramForm}
use Rattle.ada_program.specs.WellFormed.{kind_among, reached_components}
use Rattle.ada_parts.specs.Task.{performs}
use Rattle.ada_meaning.specs.declared.state.Id.{Id}
use Rattle.ada_meaning.specs.declared.state.Mode.{Mode}
use Rattle.ada_meaning.specs.declared.state.Mode.TheVariants.{Running, Raising, Exiting, Returning}
use Rattle.ada_meaning.specs.Frame as frame
use Rattle.ada_meaning.specs.Named.{Object, State, object_at}
use Rattle.ada_meaning.specs.Step.{older, procedure_of}
use Rattle.ada_tracked.specs.Frames.{blanked}
use Rattle.ada_typed.specs.Holding.{cells_of, seen_now}
use Rattle.ada_typed.proofs.Calls.{filled_seen}
use Rattle.ada_typed.proofs.Control as typed
use Rattle.ada_typed.proofs.Evaluations.{cell_at}
use Rattle.ada_typed.proofs.Later.{fits_later, waiting_later}
use Rattle.ada_typed.proofs.Values.{AreFilled, OperandKind, StayDesignated, active_later, filled_at}
use Rattle.ada_sound.proofs.Adjusting.{put_aside}
use Rattle.ada_sound.proofs.CopiedOwners.{hiding}
use Rattle.ada_sound.proofs.CopyParts.{head_in, tail_in, watched_hidden}
use Rattle.ada_sound.proofs.Invariant.{Control}
use Rattle.ada_sound.proofs.JudgedTyped.{AreAccess, StaysFilled, blanked_filled}

-- A typed state whose heap is another one, in which names stay those of objects of their access types, and objects are as their types say.
module _ (own : ProgramForm) (s : State) (heap : List Object) (stay : StayDesignated (cells_of s.heap) (cells_of heap)) (filled : AreFilled own.types (cells_of heap) (cells_of heap)) where
  abbrev other : State
  other = record s { heap = heap }

  -- A state whose values have their kinds stays one.
  ready_with : (kinds : List OperandKind) → typed.Ready own kinds s → typed.Ready own kinds other
  ready_with kinds ready = record {
    filled = filled;
    active = active_later own.types (cells_of s.heap) (cells_of heap) stay own.variables kinds s.activations ready.active;
    runs = ready.runs;
    deep = ready.deep;
  }

  -- So does one in which a jump is on its way.
  jumps_with : (mode : Mode) → typed.Jumps own mode s → typed.Jumps own mode other
  jumps_with mode jumps = record {
    filled = filled;
    active = active_later own.types (cells_of s.heap) (cells_of heap) stay own.variables [] s.activations jumps.active;
    jumps = jumps.jumps;
    deep = jumps.deep;
  }

  -- What is left of the running body fits as well while it is.
  goes_with : (mode : Mode) → typed.Goes own (cells_of s.heap) mode s.control → typed.Goes own (cells_of heap) mode s.control
  goes_with Running goes = goes
  goes_with (Raising e) goes = fits_later own (cells_of s.heap) (cells_of heap) stay (frame.Leaves (Raising e) ∷ s.control) [] goes
  goes_with Exiting goes = fits_later own (cells_of s.heap) (cells_of heap) stay (frame.Leaves Exiting ∷ s.control) [] goes
  goes_with Returning goes = fits_later own (cells_of s.heap) (cells_of heap) stay (frame.Leaves Returning ∷ s.control) [] goes

  -- So does what is left where the call of an operation ends.
  operation_with : (kinds : List OperandKind) (k : Control) → typed.AtOperation own (cells_of s.heap) kinds k → typed.AtOperation own (cells_of heap) kinds k
  operation_with kinds _ (typed.awaiting {v} {by} {done} {of} {part} {tasks} {k} some treated fits) =
      let both = fits_later own (cells_of s.heap) (cells_of heap) stay (frame.Treats v (frame.begins by done) (performs of part ∷ tasks) ∷ k) kinds (treated, fits) in
      typed.awaiting some both.0 both.1
  operation_with kinds _ (typed.confined {k} some fits) = typed.confined some (fits_later own (cells_of s.heap) (cells_of heap) stay k kinds fits)

  -- The running body is typed.
  inside_with : typed.TypedIn own s → typed.TypedIn own other
  inside_with (typed.running kinds ready fits) = typed.running kinds (ready_with kinds ready) (fits_later own (cells_of s.heap) (cells_of heap) stay s.control kinds fits)
  inside_with (typed.on_jump mode jumps goes) = typed.on_jump mode (jumps_with mode jumps) (goes_with mode goes)
  inside_with (typed.operated kinds ready ended) = typed.operated kinds (ready_with kinds ready) (operation_with kinds s.control ended)
  inside_with (typed.out_of_operation e kinds jumps ended) = typed.out_of_operation e kinds (jumps_with (Raising e) jumps) (operation_with kinds s.control ended)

-- So is the whole state.
pub typed_with :
    (p : ProgramForm) (s : State) (heap : List Object) → StayDesignated (cells_of s.heap) (cells_of heap) → AreFilled p.types (cells_of heap) (cells_of heap)
    → typed.Typed p s → typed.Typed p (record s { heap = heap })
typed_with p s heap stay filled typing = record {
  inside = inside_with (seen_now p s) s heap stay (filled_seen p (procedure_of s.activations) (cells_of heap) filled) typing.inside;
  waiting = waiting_later p (cells_of s.heap) (cells_of heap) stay (procedure_of s.activations) s.control (older s.activations) typing.waiting;
}

-- Each of these components is of an access type, where it is so of each one of them.
pub all_access :
    (found : Option (List ComponentKind)) (ks : List ComponentKind) → found ≡ Some ks → (owners : List ℕ)
    → ((c : ℕ) → Contains owners c → (a : TypeNo) × (kind_among found c ≡ Some (variable.Access a))) → AreAccess ks owners
all_access found ks is [] each = tt
all_access found ks is (c ∷ owners) each =
    let here = each c (head_in c owners) in (
      (here.0, ap (λ (o : Option (List ComponentKind)). kind_among o c) (sym is) ∙ here.1),
      all_access found ks is owners (λ d has. each d (tail_in c d owners has)),
    )

-- A state in which such components of an object are put aside.
module _
    (p : ProgramForm) (owners : List ℕ) (o : Id) (heap : List Object) (x : Object) (found : object_at heap o ≡ Some x)
    (each : (c : ℕ) → Contains owners c → (a : TypeNo) × (kind_among (reached_components p.types x.cell.access) c ≡ Some (variable.Access a)))
    (filled : AreFilled p.types (cells_of heap) (cells_of heap))
  where
    -- Objects are as their types say there.
    pub filled_aside : StaysFilled p.types (hiding owners o) heap
    filled_aside =
        let own = filled_at p.types (cells_of heap) (cells_of heap) o.0 x.cell filled (cell_at heap o.0 x found) in
        blanked_filled p.types (hiding owners o) heap x own.0 found own.1
        (subst (λ (cs : List ℕ). AreAccess own.0 cs) (sym (watched_hidden owners o)) (all_access (reached_components p.types x.cell.access) own.0 own.1 owners each)) filled

    -- And it is typed.
    pub typed_aside : (s : State) → s.heap ≡ heap → typed.Typed p s → typed.Typed p (put_aside owners o s)
    typed_aside s is typing =
        let after = filled_aside in
        typed_with p s (blanked (hiding owners o) s.heap)
        (subst (λ (h : List Object). StayDesignated (cells_of h) (cells_of (blanked (hiding owners o) h))) (sym is) after.stay)
        (subst (λ (h : List Object). AreFilled p.types (cells_of (blanked (hiding owners o) h)) (cells_of (blanked (hiding owners o) h))) (sym is) after.filled)
        typing
