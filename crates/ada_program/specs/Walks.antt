-- How a record with controlled parts lies in another one: it is found by walking into declared components.

use Rattle.std.specs.Prelude.{◌≡◌, ℕ, ◌+◌, List, Some}
use Rattle.std.specs.List.{slice_get}
use Rattle.ada_program.specs.declared.program.ComponentKind.{ComponentKind}
use Rattle.ada_program.specs.declared.program.Finalization.{Finalization}
use Rattle.ada_program.specs.declared.program.PartKind.TheVariants as kinds
use Rattle.ada_program.specs.declared.program.TypeNo.{TypeNo}
use Rattle.ada_program.specs.Controlled.{number_in}
use Rattle.ada_program.specs.ProgramForm.{PartForm, TypeForm, record_of}
use Rattle.ada_program.specs.WellFormed.{finalization_of}

-- A record of the type `u` lies in the records of the type `t`, where so many elementary components and controlled parts lie before it (3.8, 7.6): it is such a
-- record itself, or it lies so in a declared component with controlled parts, behind what lies before that component.
pub data Walks (types : List TypeForm) : (t first part u : ℕ) → Type 0 where
  ends : {t : ℕ} → Walks types t 0 0 t
  into :
      {t : ℕ} (i first part u m : ℕ) (name : List ℕ) (ps : List PartForm) (components : List ComponentKind) (f : Finalization) (p : PartForm) (v : TypeNo)
      → slice_get types t ≡ Some (record_of name ps components (Some f)) → slice_get ps i ≡ Some p → p.kind ≡ kinds.Record v
      → number_in (finalization_of types v.0) ≡ Some m → Walks types v.0 first part u → Walks types t (p.first + first) (p.part + part) u
