-- The innermost master is being left: while it owns a record object, it has the collections that this needs.

use Rattle.std.proofs.Common.{ℕ, List, [], ◌∷◌, Option, None}
use Rattle.std.specs.List.{slice_index_or}
use Rattle.ada_program.specs.declared.program.TypeDefinition.{TypeDefinition}
use Rattle.ada_parts.specs.declared.tasks.Direction.TheVariants.{WholeFirst}
use Rattle.ada_program.specs.ProgramForm.{TypeForm}
use Rattle.ada_program.specs.Nested.{Callees}
use Rattle.ada_meaning.specs.declared.state.Value.{Value}
use Rattle.ada_meaning.specs.declared.state.Value.TheVariants.{Null}
use Rattle.ada_meaning.specs.declared.state.Mode.{Mode}
use Rattle.ada_meaning.specs.declared.event.Cause.{Cause}
use Rattle.ada_meaning.specs.declared.event.Cause.TheVariants.{Leaving}
use Rattle.ada_meaning.specs.Frame as frame
use Rattle.ada_meaning.specs.State.{Owned, declared, collection, record_object, storage_pool, Item, Master}
use Rattle.ada_meaning.specs.Heap.{Cell, Found, on_null, on_gone, on_other, finds}
use Rattle.ada_meaning.specs.Step.{all_tasks, taken_out, at, members_next, item_leave_next, master_leave_next, leave_next}
use Rattle.ada_meaning.specs.Named.{State, named, look, members}
use Rattle.ada_scopes.proofs.Layers.{AllLayered}
use Rattle.ada_outlived.proofs.Records.{needs_shorter, needs_older}
use Rattle.ada_outlived.proofs.Control.{Keeps, Good, free_treating}

module _ (types : List TypeForm) (callees : Callees) where
  -- The object that is taken is treated before it ends, if it is there.
  taken_good : (definitions : List TypeDefinition) (cause : Cause) (pool : Option ℕ) (v : Value) (found : Found (Cell Value)) (s : State) → Keeps types callees s → Keeps types callees (taken_out named definitions cause pool v found s)
  taken_good definitions cause pool v on_null s h = (h.0, (tt, (tt, h.1)))
  taken_good definitions cause pool v on_gone s h = (h.0, (tt, (tt, h.1)))
  taken_good definitions cause pool v on_other s h = (h.0, (tt, (tt, h.1)))
  taken_good definitions cause pool v (finds cell) s h =
      (h.0, free_treating types callees v (frame.ends cause) (all_tasks definitions cell.access WholeFirst) (frame.Ends v ∷ frame.GivesBack v cause pool ∷ s.control) (tt, (tt, h.1)))

  members_good : (definitions : List TypeDefinition) (cause : Cause) (pool : Option ℕ) (vs : List Value) (s : State) → AllLayered s.masters → Keeps types callees s → Good types callees (members_next named definitions cause pool vs s)
  members_good definitions cause pool [] s layered h = (needs_shorter types s.masters layered h.0, h.1)
  members_good definitions cause pool (v ∷ vs) s layered h =
      λ i.
      let one = slice_index_or (v ∷ vs) i Null in
      taken_good definitions cause pool one (look s.heap one) s h

  -- Its newest item goes, after its objects.
  item_good : (definitions : List TypeDefinition) (m : ℕ) (item : Item) (owned : Owned) (s : State) → AllLayered s.masters → Keeps types callees s → Good types callees (item_leave_next named definitions m item owned s)
  item_good definitions m item (declared x) s layered h = (needs_shorter types s.masters layered h.0, h.1)
  item_good definitions m item (collection access pool) s layered h = members_good definitions (Leaving m item.number) pool (members s.heap item.number) s layered h
  item_good definitions m item (record_object t) s layered h = members_good definitions (Leaving m item.number) None (members s.heap item.number) s layered h
  item_good definitions m item (storage_pool declaration number) s layered h = (needs_shorter types s.masters layered h.0, h.1)

  master_good : (definitions : List TypeDefinition) (mode : Mode) (m : ℕ) (items : List Item) (s : State) → AllLayered s.masters → Keeps types callees s → Good types callees (master_leave_next named definitions mode m items s)
  master_good definitions mode m [] s layered h = (needs_older types s.masters h.0, h.1)
  master_good definitions mode m (item ∷ items) s layered h = item_good definitions m item item.owned (at (frame.Leaves mode ∷ s.control) s) layered (h.0, (tt, h.1))

  pub leave_good : (definitions : List TypeDefinition) (mode : Mode) (ms : List Master) (s : State) → AllLayered s.masters → Keeps types callees s → Good types callees (leave_next named definitions mode ms s)
  leave_good definitions mode [] s layered h = tt
  leave_good definitions mode (m ∷ ms) s layered h = master_good definitions mode m.number m.items s layered h
