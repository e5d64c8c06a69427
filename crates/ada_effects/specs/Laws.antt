-- Laws of the exceptions that statements may raise.

use Rattle.std.specs.Prelude.{◌≡◌, ◌↔◌, Bool, true, false}
use Rattle.ada_effects.specs.Effects.{Implicit, Effects, stmts_raise, passes, effects_of}
use Rattle.ada_program.specs.declared.program.Exception.{Exception}
use Rattle.ada_program.specs.Form.{StmtsForm, HandlersForm}
use Rattle.ada_program.specs.Handling.{is_same, is_taken}
use Rattle.ada_program.specs.ProgramForm.{ProgramForm}

-- The test of two exceptions tells whether they are one.
abbrev pub SameMeansEqual : Type 0
SameMeansEqual = (e f : Exception) → (is_same e f ≡ true) ↔ (e ≡ f)

-- Whether statements may raise one of some exceptions depends on nothing but which these are.
abbrev pub AnswersAgree : Type 0
AnswersAgree = (effects : Effects) (p q : Exception → Bool) (fs : StmtsForm) → ((e : Exception) → p e ≡ q e) → stmts_raise effects p fs ≡ stmts_raise effects q fs

-- Where something passes, it is an exception that the statements may raise and that no handler takes, among the procedures of a program.
abbrev pub SomethingPasses : Type 0
SomethingPasses = (implicit : Implicit) (p : ProgramForm) (fs : StmtsForm) (hs : HandlersForm) → passes (effects_of implicit p) fs hs ≡ true →
    (e : Exception) × (stmts_raise (effects_of implicit p) (λ x. is_same x e) fs ≡ true) × (is_taken hs e ≡ false)
