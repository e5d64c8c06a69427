-- Laws of the procedures of a program: what is known of their calls.

use Rattle.std.specs.Prelude.{◌≡◌, ◌↔◌, ℕ, Bool, true, false, Some}
use Rattle.std.specs.List.{slice_get}
use Rattle.ada_effects.specs.Effects.{Implicit, stmts_raise, passes, call_raises, effect_of, effects_of}
use Rattle.ada_effects.specs.Taken.{have_others}
use Rattle.ada_program.specs.declared.program.Exception.{Exception}
use Rattle.ada_program.specs.Form.{StmtsForm, HandlersForm}
use Rattle.ada_program.specs.Handling.{is_same, is_taken}
use Rattle.ada_program.specs.ProgramForm.{BodyForm, ProgramForm, seen_by}

-- An exception that statements may raise, and that no handler takes, passes (11.4), among the procedures of a program.
abbrev pub UntakenPasses : Type 0
UntakenPasses = (implicit : Implicit) (p : ProgramForm) (fs : StmtsForm) (hs : HandlersForm) (e : Exception) →
    stmts_raise (effects_of implicit p) (is_same e) fs ≡ true → is_taken hs e ≡ false → passes (effects_of implicit p) fs hs ≡ true

-- A handler with `others` takes every exception, so that nothing passes (11.2), among the procedures of a program.
abbrev pub OthersTakeAll : Type 0
OthersTakeAll = (implicit : Implicit) (p : ProgramForm) (fs : StmtsForm) (hs : HandlersForm) → have_others hs ≡ true → passes (effects_of implicit p) fs hs ≡ false

-- A call may raise one of some exceptions where one of these is such that it may raise that one.
abbrev pub CallsRaiseEach : Type 0
CallsRaiseEach = (implicit : Implicit) (p : ProgramForm) (procedure : ℕ) (among : Exception → Bool) →
    (call_raises (slice_get (effects_of implicit p).calls procedure) among ≡ true)
    ↔ ((e : Exception) × (among e ≡ true) × (call_raises (slice_get (effects_of implicit p).calls procedure) (is_same e) ≡ true))

-- What is known of the calls of a procedure is told by its body, and by what is known of those before it.
abbrev pub CallsDoAsBodies : Type 0
CallsDoAsBodies = (implicit : Implicit) (p : ProgramForm) (procedure : ℕ) (b : BodyForm) → slice_get p.bodies procedure ≡ Some b →
    slice_get (effects_of implicit p).calls procedure ≡ Some (effect_of p.types (effects_of implicit (seen_by procedure b p)) b)
