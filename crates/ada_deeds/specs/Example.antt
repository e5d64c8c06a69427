-- Two procedures that call one another, one of which raises an exception, and a third one.

use Rattle.std.specs.Prelude.{[], ◌∷◌}
use Rattle.ada_deeds.specs.Does.{Does}
use Rattle.ada_deeds.specs.declared.deed.Callee.TheVariants as callee
use Rattle.ada_deeds.specs.declared.deed.Deed.{Deed}
use Rattle.ada_deeds.specs.declared.deed.Deed.TheVariants as deed
use Rattle.ada_program.specs.declared.program.Exception.TheVariants.{ProgramError}
use Rattle.ada_program.specs.Form.{skips, calls, raises, StmtsForm, no_stmts, a_stmt, no_handlers}
use Rattle.ada_program.specs.ProgramForm.{BodyForm, ProgramForm, nowhere}

-- A body of these statements.
abbrev pub body : StmtsForm → BodyForm
body fs = record {
  formals = [];
  variables = [];
  declarations = [];
  statements = fs;
  handlers = no_handlers;
  start_spot = nowhere;
  end_spot = nowhere;
}

-- The first one calls the second one, which calls the first one and raises Program_Error. The third one does nothing.
abbrev pub program : ProgramForm
program = record {
  types = [];
  pools = [];
  bodies = body (a_stmt (calls 1 []) no_stmts) ∷ body (a_stmt (calls 0 []) (a_stmt (raises ProgramError) no_stmts)) ∷ body (a_stmt skips no_stmts) ∷ [];
  formals = [];
  variables = [];
  texts = [];
  exceptions = [];
  declarations = [];
  statements = no_stmts;
  handlers = no_handlers;
  start_spot = nowhere;
  end_spot = nowhere;
}

-- Program_Error comes out.
abbrev pub raising : Deed
raising = deed.Raises ProgramError

-- It comes out of both that call one another.
abbrev pub BothRaise : Type 0
BothRaise = Does program raising (callee.Procedure (record { 0 = 0 })) × Does program raising (callee.Procedure (record { 0 = 1 }))

-- It does not come out of the third one.
abbrev pub TheThirdDoesNot : Type 0
TheThirdDoesNot = ¬ Does program raising (callee.Procedure (record { 0 = 2 }))
