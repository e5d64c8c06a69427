-- The body of a procedure runs when it is called (6.4).

use Rattle.std.proofs.Common.{◌≡◌, ℕ, List, [], ◌∷◌, sym, ap, subst, ◌∙◌, reverse, false}
use Rattle.std.specs.Prelude.{Some}
use Rattle.std.specs.List.{slice_get}
use Rattle.ada_deeds.specs.Implicit.{implicit_of}
use Rattle.ada_program.specs.declared.program.Program.{Program}
use Rattle.ada_program.specs.Form.{ActualForm}
use Rattle.ada_program.specs.ProgramForm.{TypeForm, BodyForm, ProgramForm, program_form, main_body, seen_by, seen_in}
use Rattle.ada_program.specs.WellFormed.{IsWellFormed}
use Rattle.ada_effects.specs.Effects.{body_frees, effects_of}
use Rattle.ada_flow.specs.Flow.{first_holds, gone_with, tracks_of}
use Rattle.ada_meaning.specs.declared.state.Value.{Value}
use Rattle.ada_meaning.specs.State.{Activation}
use Rattle.ada_meaning.specs.Frame.{Elaborates, Returns}
use Rattle.ada_meaning.specs.Named.{State}
use Rattle.ada_typed.specs.Holding.{cells_of}
use Rattle.ada_typed.proofs.Values.{active_placed}
use Rattle.ada_sound.proofs.GivenBack.{ArePlaced}
use Rattle.ada_typed.proofs.Control as typed
use Rattle.ada_sound.proofs.Invariant.{Known, Control, Working, RunsOn, CallsOn, Spares, outers, ArePassed}
use Rattle.ada_sound.proofs.Callers.{Suspension, known_in, Stands}
use Rattle.ada_sound.proofs.Bodies.{IsBody, seen_is, callee_get}
use Rattle.ada_sound.proofs.Returns.{same_types}
use Rattle.ada_sound.proofs.Fits.{NoOuterAlias}
use Rattle.ada_sound.proofs.Calls.{callee, values, waiting, freed_by_call, references, referenced, passes_spared}
use Rattle.ada_sound.proofs.Keepings.{callee_keeps}
use Rattle.ada_sound.proofs.BodyRuns.{body_runs, call_spares}
use Rattle.ada_sound.proofs.Starts.{Obeys, untracked_body_obeys, none_out, none_on}
use Rattle.ada_sound.proofs.Trackers.{untracked_by}
use Rattle.ada_quiet.specs.Apart.{is_tracker}
use Rattle.ada_flow.specs.Tracking.{no_tracks}

-- Each variable of the running body has a place.
pub placed_in : (p : ProgramForm) (a : Activation Value) (rest : List (Activation Value)) (s : State) → s.activations ≡ a ∷ rest → typed.TypedIn p s → ArePlaced p.variables a.places
placed_in p a rest s is (typed.running kinds ready fits) x kind at = active_placed p.types (cells_of s.heap) p.variables kinds (a ∷ rest) x kind (rw is at ready.active) at
placed_in p a rest s is (typed.on_jump mode jumps goes) x kind at = active_placed p.types (cells_of s.heap) p.variables [] (a ∷ rest) x kind (rw is at jumps.active) at
placed_in p a rest s is (typed.operated kinds ready ended) x kind at = active_placed p.types (cells_of s.heap) p.variables kinds (a ∷ rest) x kind (rw is at ready.active) at
placed_in p a rest s is (typed.out_of_operation e kinds jumps ended) x kind at = active_placed p.types (cells_of s.heap) p.variables [] (a ∷ rest) x kind (rw is at jumps.active) at

-- The body of a procedure runs when it is called.
module _ (program : Program) (number : ℕ) (b : BodyForm) (given : List ActualForm) (k : Control) (a : Activation Value) (gs : List Suspension) (s : State) (well : IsWellFormed (program_form program)) (obeys : Obeys program) (apart : is_tracker (program_form program) number ≡ false)
    (w : Working (known_in program a.procedure gs) s.heap a.places s.masters (CallsOn (known_in program a.procedure gs) number b given k)) (is : IsBody (program_form program) a.procedure) (passed : ArePassed s.heap a.places (reverse given) a.operands) where
  abbrev called : Known
  called = callee program number b given k a [] gs s w

  seen_body : slice_get (program_form program).bodies number ≡ Some b
  seen_body = callee_get (program_form program) a.procedure number b is w.rest.0

  same_body : main_body called.program ≡ main_body (seen_by number b (program_form program))
  same_body = ap main_body (seen_is (program_form program) number b seen_body)

  spares_called : (rest : List (Activation Value)) → Stands program gs (record s { activations = a ∷ rest }) → Spares called (body_frees called.program.types (effects_of called.implicit called.program) (main_body called.program))
  spares_called rest stands t may =
      let freed = freed_by_call program number b given k a rest gs s w stands t may in
      let caller = known_in program a.procedure gs in
      let same = same_types a.procedure (program_form program) ∙ sym (same_types (Some number) (program_form program)) in
      let refers = referenced program number b given k a [] gs s in (
        subst (λ (types : List TypeForm). NoOuterAlias types (outers called) t) same
            (call_spares caller.program.types caller.program.variables (slice_get (effects_of caller.implicit caller.program).calls number) given a.places (values program number b given k a [] gs s) refers w.holds (outers caller) t freed (w.rest.3 t freed).0
            (λ of o is. passes_spared program number b given k a [] gs s w passed t freed of o is)),
        may,
      )

  -- The body tracks nothing.
  nothing : tracks_of (program_form program).types number b ≡ no_tracks
  nothing = untracked_by (program_form program) number b apart

  nothing_there : tracks_of (seen_in a.procedure (program_form program)).types number b ≡ no_tracks
  nothing_there = rw (same_types a.procedure (program_form program)) nothing

  pub runs_called : (rest : List (Activation Value)) → Stands program gs (record s { activations = a ∷ rest }) → RunsOn called (Elaborates b.declarations b.statements b.handlers ∷ Returns given (references program number b given k a [] gs s) ∷ k) (gone_with b.declarations ∷ []) (first_holds b.formals b.variables)
  runs_called rest stands =
      subst (λ (c : BodyForm). RunsOn called (Elaborates c.declarations c.statements c.handlers ∷ Returns given (references program number b given k a [] gs s) ∷ k) (gone_with c.declarations ∷ []) (first_holds c.formals c.variables)) same_body
      (body_runs program (Some number) (waiting program number b given k a [] gs s w ∷ gs) (untracked_body_obeys program number b seen_body nothing obeys.1) (none_out program (Some number) well) (none_on program (Some number) well) (spares_called rest stands) (callee_keeps (implicit_of (program_form program)) (program_form program) a.procedure number b nothing_there is w.rest.0))
