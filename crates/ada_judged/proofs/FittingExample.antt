-- A body assigns a tracked component of its formal parameter to a variable, makes it null, and frees it.

use Rattle.std.proofs.Common.{◌≡◌, ℕ, true, false, List, [], ◌∷◌, None, refl, ap, arith}
use Rattle.ada_program.specs.declared.program.ComponentKind.TheVariants as component
use Rattle.ada_program.specs.declared.program.FormalMode.TheVariants.{InOut}
use Rattle.ada_program.specs.declared.program.PartKind.TheVariants as part
use Rattle.ada_program.specs.declared.program.VariableKind.TheVariants as variable
use Rattle.ada_program.specs.Form.{PathForm, nothing, value_of, declares, assigns, frees, StmtsForm, no_stmts, a_stmt, no_handlers}
use Rattle.ada_program.specs.ProgramForm.{TypeForm, record_of, access_to, object_of, BodyForm, nowhere}
use Rattle.ada_flow.specs.Tracking.{Tracks}
use Rattle.ada_judged.specs.Fitting.{IsFitting, FittingIsMet}

-- A record with a component of an access type that designates the record, and the type by which a record object is known.
abbrev types : List TypeForm
types =
    record_of [] (record { name = []; kind = part.Elementary (component.Access (record { 0 = 1 })); first = 0; part = 0 } ∷ []) (component.Access (record { 0 = 1 }) ∷ []) None
    ∷ access_to [] 0 None ∷ object_of 0 ∷ []

-- The component is tracked.
abbrev tracks : Tracks
tracks = record { first = 2; components = 0 ∷ [] }

abbrev tracked : PathForm
tracked = record { root = 0; of_record = true; selectors = 0 ∷ []; spot = nowhere }

abbrev local : PathForm
local = record { root = 1; of_record = false; selectors = []; spot = nowhere }

abbrev body : BodyForm
body = record {
  formals = InOut ∷ [];
  variables =
      record { name = []; spot = nowhere; kind = variable.Record (record { 0 = 2 }); borrows = false }
      ∷ record { name = []; spot = nowhere; kind = variable.Access (record { 0 = 1 }); borrows = false } ∷ [];
  declarations = declares 1 nothing ∷ [];
  statements =
      a_stmt (assigns local (value_of tracked)) (a_stmt (assigns tracked nothing) (a_stmt (frees 1 tracked) no_stmts));
  handlers = no_handlers;
  start_spot = nowhere;
  end_spot = nowhere;
}

-- The variable from which what is assigned first is read.
abbrev first_read : StmtsForm → ℕ
first_read (a_stmt (assigns target (value_of path)) fs) = path.root
first_read fs = 0

is_fitting : IsFitting types tracks body
is_fitting = record {
  tracks_components = record { object = record { 0 = 2 }; formal = refl; components = ((record { 0 = 1 }, refl), tt); behind = refl };
  simple = ((((omega arith, omega arith), tt), tt), (((omega arith, omega arith), omega arith), ((omega arith, tt), (omega arith, tt))), tt);
  before = ((refl, tt), (tt, (tt, (tt, tt))), tt);
  types_fit = refl;
  body_fits = refl;
  moves = λ same. let two : 2 ≡ 0 = ap first_read same in cc (two);
}

pub fitting_is_met : FittingIsMet
fitting_is_met = (types, tracks, body, is_fitting)
