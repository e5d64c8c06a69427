-- A well-formed program is never stuck: each action that a run comes to has a meaning.

use Rattle.std.specs.Prelude.{◌≡◌, ℕ, ℤ, true, List, [], ◌∷◌, Some}
use Rattle.ada_program.specs.declared.program.Choice.TheVariants as choice
use Rattle.ada_program.specs.declared.program.Exception.{Exception}
use Rattle.ada_program.specs.declared.program.Finalization.{Finalization}
use Rattle.ada_program.specs.declared.program.ProcedureNo.{ProcedureNo}
use Rattle.ada_program.specs.declared.program.Program.{Program}
use Rattle.ada_program.specs.Form.{RecordPathForm, ItemForm, assigns_record, a_stmt, no_stmts, stmt_forms, no_handlers, a_handler, handler_forms}
use Rattle.ada_program.specs.ProgramForm.{ProgramForm, program_form}
use Rattle.ada_program.specs.WellFormed.{access_of, path_kind, record_components, object_components, object_named, has_record_at, has_parts_from, part_count, parts_named, finalization_of, IsWellFormed, overrides_none}
use Rattle.ada_meaning.specs.declared.event.Halt.{Halt}
use Rattle.ada_meaning.specs.declared.event.Halt.TheVariants.{Finished, Unhandled, Escaped, Erroneous, Stuck, Memory}
use Rattle.ada_meaning.specs.declared.state.Mode.TheVariants.{Running}
use Rattle.ada_meaning.specs.declared.state.Value.{Value}
use Rattle.ada_meaning.specs.Frame.{Frame}
use Rattle.ada_meaning.specs.Frame as frame
use Rattle.ada_meaning.specs.Step.{procedure_of}
use Rattle.ada_meaning.specs.Named.{State}
use Rattle.ada_meaning.specs.Run.{Event, Run, Halts, first_state}

-- No run of the program, whatever its input and whatever is granted and picked, comes to an action that has no meaning.
abbrev pub NeverStuck : Program → Type 0
NeverStuck program = (input : List ℤ) (events : List Event) (last : State) → Run program (first_state program input) events last → Halts program last Stuck → ⊥

-- That holds of each program that is well formed.
abbrev pub WellFormedProgramsAreNeverStuck : Type 0
WellFormedProgramsAreNeverStuck = (program : Program) → IsWellFormed (program_form program) → NeverStuck program

-- No run of the program, whatever its input and whatever is granted and picked, has an exception leave an Adjust or a Finalize (7.6.1).
abbrev pub NothingEscapes : Program → Type 0
NothingEscapes program =
    (input : List ℤ) (events : List Event) (last : State) (e : Exception) → Run program (first_state program input) events last → Halts program last (Escaped e) → ⊥

-- That holds of each program that is well formed and whose types override no operation.
abbrev pub NothingEscapesWellFormedPrograms : Type 0
NothingEscapesWellFormedPrograms = (program : Program) → IsWellFormed (program_form program) → overrides_none (program_form program) ≡ true → NothingEscapes program

-- A run ends in one of the ways that the language knows: the main procedure is left, or by an exception (11.4), or the next action would be
-- erroneous (13.11.2), or an exception leaves an Adjust or a Finalize, which is a bounded error (7.6.1).
abbrev pub EndsByTheLanguage : Halt → Type 0
EndsByTheLanguage Finished = Unit {0}
EndsByTheLanguage (Unhandled e) = Unit {0}
EndsByTheLanguage (Escaped e) = Unit {0}
EndsByTheLanguage (Erroneous why) = Unit {0}
EndsByTheLanguage Stuck = ⊥
EndsByTheLanguage Memory = ⊥

-- Each run of a well-formed program ends so.
abbrev pub WellFormedProgramsEndByTheLanguage : Type 0
WellFormedProgramsEndByTheLanguage = (program : Program) → IsWellFormed (program_form program) → (input : List ℤ) (events : List Event) (last : State) (halt : Halt) → Run program (first_state program input) events last → Halts program last halt → EndsByTheLanguage halt

-- A run of the program comes to its end.
abbrev pub Finishes : Program → Type 0
Finishes program = (input : List ℤ) × (events : List Event) × (last : State) × Run program (first_state program input) events last × Halts program last Finished

-- A run of the program comes to an action that has no meaning.
abbrev pub GetsStuck : Program → Type 0
GetsStuck program = (input : List ℤ) × (events : List Event) × (last : State) × Run program (first_state program input) events last × Halts program last Stuck

-- The premise is met: a well-formed program declares, also a pool, from which it allocates with items and without, follows, assigns, copies a record,
-- repeats, counts, compares with null, chooses, reads, writes, frees, exits, raises an exception in a block and handles it, calls a procedure with formal
-- parameters, also of an access type, which returns, and one with a record and a component for its formal parameters, and comes to its end.
abbrev pub AWellFormedProgramFinishes : Type 0
AWellFormedProgramFinishes = (program : Program) × IsWellFormed (program_form program) × Finishes program

-- A run of the program comes to the assignment of a record that has controlled parts, whose target and source are found (5.2, 7.6).
abbrev pub AssignsParts : Program → Type 0
AssignsParts program =
    (input : List ℤ) × (events : List Event) × (last : State) × (record_type : ℕ) × (behind : List (Frame Value))
    × Run program (first_state program input) events last × (last.mode ≡ Running) × (last.control ≡ frame.Assigns record_type ∷ behind)

-- So it is for records with controlled parts: a well-formed program declares one, and another as a copy of it, assigns the second to the first, and comes to
-- its end.
abbrev pub AWellFormedProgramAssignsParts : Type 0
AWellFormedProgramAssignsParts = (program : Program) × IsWellFormed (program_form program) × AssignsParts program × Finishes program

-- A run of the program comes to the body of the procedure that overrides Finalize of a type (7.6).
abbrev pub RunsFinalize : Program → Type 0
RunsFinalize program =
    (input : List ℤ) × (events : List Event) × (last : State) × (record_type : ℕ) × (finalization : Finalization) × (procedure : ProcedureNo)
    × Run program (first_state program input) events last × (finalization_of (program_form program).types record_type ≡ Some finalization)
    × (finalization.operations.finalize ≡ Some procedure) × (procedure_of last.activations ≡ Some procedure.0)

-- So it is with operations: a well-formed program declares a record of a type that overrides Finalize, whose body runs as the main procedure is left, and comes
-- to its end.
abbrev pub AWellFormedProgramCallsFinalize : Type 0
AWellFormedProgramCallsFinalize = (program : Program) × IsWellFormed (program_form program) × RunsFinalize program × Finishes program

-- The premise is needed: a program that writes the image of a Boolean as that of an Integer gets stuck.
abbrev pub AnIllTypedProgramGetsStuck : Type 0
AnIllTypedProgramGetsStuck = (program : Program) × GetsStuck program

-- The components of a path's record lie in the object to which the path leads, and its controlled parts do, where each are looked at alone (4.1, 7.6).
abbrev pub LiesApart : ProgramForm → RecordPathForm → Type 0
LiesApart p path =
    let object = access_of (path_kind p.types p.variables path.object) in
    (has_record_at (object_components p.types object) path.first (record_components p.types path.record_type) ≡ true)
    × (has_parts_from (part_count p.types path.record_type) path.part (parts_named p.types (object_named p.types object)) ≡ true)

-- That is not enough: a program gets stuck whose one statement assigns to a record that it names by the component of one and the controlled part of another.
abbrev pub AMixedPathGetsStuck : Type 0
AMixedPathGetsStuck =
    (program : Program) × (path : RecordPathForm) × (items : List ItemForm) × (stmt_forms program ≡ a_stmt (assigns_record path items) no_stmts)
    × LiesApart (program_form program) path × GetsStuck program

-- The one handler of a program takes each exception, and has no statement (11.2).
abbrev pub HasEmptyHandler : Program → Type 0
HasEmptyHandler program = handler_forms program ≡ a_handler (choice.Others ∷ []) no_stmts no_handlers

-- A handler needs a statement: a program gets stuck that comes to one without.
abbrev pub AnEmptyHandlerGetsStuck : Type 0
AnEmptyHandlerGetsStuck = (program : Program) × HasEmptyHandler program × GetsStuck program
