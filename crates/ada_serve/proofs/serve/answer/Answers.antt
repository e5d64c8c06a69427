use Rattle.std.proofs.Common.{sym, subst}
use Rattle.std.proofs.lemmas.Result.{err_from_is_err_and}
use Rattle.ada_program.specs.declared.program.Program.{Program}
use Rattle.ada_program.specs.ProgramForm.{body_forms}
use Rattle.ada_meaning.specs.Pace.{DeclarationsSettle}
use Rattle.ada_serve.specs.Calls.{IsRead}
use Rattle.ada_serve.proofs.Answering.{input_unwritten, answers_run}
use Rattle.ada_serve.proofs.serve.answer.Goals as goal

pub returns-in_err-numbers-clause-writer : goal.returns-in_err-numbers-clause-writer
returns-in_err-numbers-clause-writer g c =
    let p = err_from_is_err_and c.from_residual.result c.from_residual.ensures.1 in
    rw (p.1, p.2) (input_unwritten g.I.ByteReader.remaining g.I.ByteReader.reads g.W.ByteWriter.writes c.args.input.now c.read_numbers.new.input c.args.out.now c.in_err-numbers.field-0.0 c.in_err-numbers.ensures.faults)

pub returns-then-options-clause-text : goal.returns-then-options-clause-text
returns-then-options-clause-text g c =
    answers_run (IsRead g.I.ByteReader.remaining g.I.ByteReader.reads c.args.input.now c.read_numbers.new.input) c.args.accepted.now c.program-program.result.now c.in_ok-numbers.numbers.items c.args.options.now (g.W.ByteWriter.contents c.args.out.now) (g.W.ByteWriter.contents c.run.new.out) c.run.result c.if-options.true c.program-program.ensures.program c.in_ok-numbers.ensures.numbers c.run.ensures.text

pub run-requires : goal.run-requires
run-requires g c = record {
  operations =
      subst (λ (p : Program). DeclarationsSettle p.types.items (body_forms p)) (sym c.program-program.ensures.program) c.program-program.ensures.settles;
}
