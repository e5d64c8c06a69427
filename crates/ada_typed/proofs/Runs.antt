-- So no run of a well-formed program is stuck.

use Rattle.ada_typed.specs.Holding.{cells_of, seen_now, HoldsKind, ObjectsHaveTheirKinds, ObjectsHaveTheirParts, VariablesHaveTheirKinds}
use Rattle.std.proofs.Common.{◌≡◌, ℕ, ℤ, false, List, [], ◌∷◌, map, Some, refl, sym, ◌∙◌, subst, arith}
use Rattle.ada_program.specs.declared.program.Program.{Program}
use Rattle.ada_program.specs.ProgramForm.{TypeForm, ProgramForm, program_form, type_form, variable_form, body_forms}
use Rattle.ada_program.specs.declared.program.VariableKind.{VariableKind}
use Rattle.ada_program.specs.WellFormed.{IsWellFormed, variable_kind}
use Rattle.ada_meaning.specs.declared.event.Halt.TheVariants.{Finished, Unhandled, Escaped, Erroneous, Stuck, Memory}
use Rattle.ada_meaning.specs.declared.event.Halt.{Halt}
use Rattle.ada_meaning.specs.Step.{procedure_of, halts, moves, tells, asks, picks}
use Rattle.ada_meaning.specs.Named.{State, Next, next}
use Rattle.ada_meaning.specs.Run.{Event, Halts, Choice, settled, grants, takes, Leads, Step, Run, here, there, first_state}
use Rattle.ada_typed.specs.Stuck.{EndsByTheLanguage, WellFormedProgramsAreNeverStuck, NothingEscapesWellFormedPrograms, WellFormedProgramsEndByTheLanguage}
use Rattle.ada_typed.proofs.Parts.{parts_counted}
use Rattle.ada_typed.proofs.Values.{OperandKind, AreFilled, IsActive, active_placed, active_held, held_blank, filled_at, parts_at}
use Rattle.ada_typed.proofs.Control.{Typed, TypedIn, running, on_jump, operated, out_of_operation}
use Rattle.ada_typed.proofs.Evaluations.{ComesTo, cell_at}
use Rattle.ada_typed.proofs.Bodies.{types_seen, main_fits, initials_begin, statements_begin, handlers_begin}
use Rattle.ada_typed.proofs.Inner.{parts_are_records}
use Rattle.ada_typed.proofs.Calls.{Ends, same_filled, next_fine}

-- The first state is typed: each place holds a value of its variable's kind, and nothing waits for the main body.
pub first_typed : (program : Program) (input : List ℤ) → IsWellFormed (program_form program) → Typed (program_form program) (first_state program input)
first_typed program input well = record {
  inside =
      running [] (record { filled = tt; active = (held_blank (map type_form program.types.items) [] (map variable_form program.variables.items), tt); runs = refl; deep = omega arith }) (
        refl,
        false,
        initials_begin (program_form program) (main_fits (program_form program) well),
        (statements_begin (program_form program) (main_fits (program_form program) well), λ whole. whole.0),
        (handlers_begin (program_form program) (main_fits (program_form program) well), λ whole. whole.1),
        tt,
        tt,
      );
  waiting = refl;
}

led : (p : ProgramForm) (coming : Next) (choice : Choice) (e : Event) (after : State) → ComesTo (Ends p) (Typed p) coming → Leads coming choice e after → Typed p after
led p (halts halt) choice e after d l = absurd l
led p (moves shown s) settled e after d l = rw (l.1) d
led p (tells request shown s) settled e after d l = rw (l.1) d
led p (asks request answers) (grants granted) e after d l = rw (l.1) (d granted)
led p (picks n taking) (takes i) e after d l = rw (l.2) (d i l.0)
led p (moves shown s) (grants granted) e after d l = absurd l
led p (moves shown s) (takes i) e after d l = absurd l
led p (tells request shown s) (grants granted) e after d l = absurd l
led p (tells request shown s) (takes i) e after d l = absurd l
led p (asks request answers) settled e after d l = absurd l
led p (asks request answers) (takes i) e after d l = absurd l
led p (picks n taking) settled e after d l = absurd l
led p (picks n taking) (grants granted) e after d l = absurd l

-- How such a run ends.
known_end : (p : ProgramForm) (halt : Halt) → Ends p halt → EndsByTheLanguage halt
known_end p Finished h = tt
known_end p (Unhandled e) h = tt
known_end p (Escaped e) h = tt
known_end p (Erroneous why) h = tt
known_end p Stuck h = h
known_end p Memory h = h

module _ (program : Program) (well : IsWellFormed (program_form program)) where
  -- A typed state's next step leads to typed states, or ends the run in a way that the language knows.
  next_typed : (s : State) → Typed (program_form program) s → ComesTo (Ends (program_form program)) (Typed (program_form program)) (next program.types.items (body_forms program) s)
  next_typed s typed = next_fine (program_form program) well (parts_are_records program well) program.types.items refl s typed

  -- A step leads from a typed state to a typed one.
  pub step_typed : (s after : State) (choice : Choice) (event : Event) → Typed (program_form program) s → Step program s choice event after → Typed (program_form program) after
  step_typed s after choice event typed step = led (program_form program) (next program.types.items (body_forms program) s) choice event after (next_typed s typed) step

  run_typed : (s last : State) (events : List Event) → Typed (program_form program) s → Run program s events last → Typed (program_form program) last
  run_typed s last events typed here = typed
  run_typed s last (e ∷ events) typed (there choice mid step rest) = run_typed mid last events (step_typed s mid choice e typed step) rest

  -- So is the state that a run from the first one comes to.
  pub last_typed : (input : List ℤ) (events : List Event) (last : State) → Run program (first_state program input) events last → Typed (program_form program) last
  last_typed input events last run = run_typed (first_state program input) last events (first_typed program input well) run

  ends_so : (input : List ℤ) (events : List Event) (last : State) (halt : Halt) → Run program (first_state program input) events last → Halts program last halt → Ends (program_form program) halt
  ends_so input events last halt run halted =
      subst (λ (coming : Next). ComesTo (Ends (program_form program)) (Typed (program_form program)) coming) halted (next_typed last (last_typed input events last run))

-- So each run ends in a way that the language knows.
pub ends_by_the_language : WellFormedProgramsEndByTheLanguage
ends_by_the_language program well input events last halt run halted = known_end (program_form program) halt (ends_so program well input events last halt run halted)

pub never_stuck : WellFormedProgramsAreNeverStuck
never_stuck program well input events last run stuck = ends_by_the_language program well input events last Stuck run stuck

pub nothing_escapes : NothingEscapesWellFormedPrograms
nothing_escapes program well plain input events last e run out = ends_so program well input events last (Escaped e) run out plain

filled_in : (own : ProgramForm) (s : State) → TypedIn own s → AreFilled own.types (cells_of s.heap) (cells_of s.heap)
filled_in own s (running kinds ready fits) = ready.filled
filled_in own s (on_jump mode jumps goes) = jumps.filled
filled_in own s (operated kinds ready ended) = ready.filled
filled_in own s (out_of_operation e kinds jumps ended) = jumps.filled

-- What lies in objects is what their types say, in each typed state.
pub typed_filled : (p : ProgramForm) (s : State) → Typed p s → AreFilled p.types (cells_of s.heap) (cells_of s.heap)
typed_filled p s typed =
    same_filled p (procedure_of s.activations) (cells_of s.heap) (filled_in (seen_now p s) s typed.inside)

pub objects_have_their_kinds : ObjectsHaveTheirKinds
objects_have_their_kinds program well input events last o object run is =
    let p = program_form program in
    let typed = last_typed program well input events last run in
    filled_at p.types (cells_of last.heap) (cells_of last.heap) o.0 object.cell (typed_filled p last typed) (cell_at last.heap o.0 object is)

pub objects_have_their_parts : ObjectsHaveTheirParts
objects_have_their_parts program well input events last o object run is =
    let p = program_form program in
    let typed = last_typed program well input events last run in
    (parts_at p.types (cells_of last.heap) (cells_of last.heap) o.0 object.cell (typed_filled p last typed) (cell_at last.heap o.0 object is)).0
    ∙ sym (parts_counted program.types.items p.types object.cell.access refl well.types_fit)

active_holds : (own : ProgramForm) (s : State) (kinds : List OperandKind) (x : ℕ) (kind : VariableKind) → IsActive own.types (cells_of s.heap) own.variables kinds s.activations → variable_kind own.variables x ≡ Some kind → HoldsKind own.types s x kind
active_holds own s kinds x kind active is =
    (active_placed own.types (cells_of s.heap) own.variables kinds s.activations x kind active is, active_held own.types (cells_of s.heap) own.variables kinds s.activations x kind active is)

-- So does what the variables of the running body hold.
pub typed_holds : (own : ProgramForm) (s : State) (x : ℕ) (kind : VariableKind) → TypedIn own s → variable_kind own.variables x ≡ Some kind → HoldsKind own.types s x kind
typed_holds own s x kind (running kinds ready fits) is = active_holds own s kinds x kind ready.active is
typed_holds own s x kind (on_jump mode jumps goes) is = active_holds own s [] x kind jumps.active is
typed_holds own s x kind (operated kinds ready ended) is = active_holds own s kinds x kind ready.active is
typed_holds own s x kind (out_of_operation e kinds jumps ended) is = active_holds own s [] x kind jumps.active is

pub variables_have_their_kinds : VariablesHaveTheirKinds
variables_have_their_kinds program well input events last x kind run is =
    let p = program_form program in
    subst (λ (types : List TypeForm). HoldsKind types last x kind) (types_seen p (procedure_of last.activations))
    (typed_holds (seen_now p last) last x kind (last_typed program well input events last run).inside is)
