use Rattle.std.proofs.Common.{◌≡◌, ◌∙◌, true, inl, inr, take}
use Rattle.std.proofs.lemmas.Result.{err_from_is_err_and}
use Rattle.ada_serve.specs.declared.serve.TheConstants.{MOST_KEPT}
use Rattle.ada_serve.specs.Calls.{IsRead}
use Rattle.ada_serve.specs.Runner.{runner_before}
use Rattle.ada_serve.specs.Served.{IsToRun, asked}
use Rattle.ada_serve.proofs.Answering.{accepted_of, first_of, unwritten, cut, asks_more, never_asks, sizes_unasked, input_left, serves_accepted, serves_refused, answer_not_erroneous, promises_accepted, promises_refused}
use Rattle.ada_serve.proofs.serve.serve.Goals as goal

pub returns-in_err-text-clause-readers : goal.returns-in_err-text-clause-readers
returns-in_err-text-clause-readers g c =
    let p = err_from_is_err_and c.from_residual.result c.from_residual.ensures.1 in
    rw (p.1, p.2) (inl (cut g.S.ByteReader.reads c.args.source.now c.read_all.new.reader c.args.input.now c.in_err-text.field-0.0 c.in_err-text.ensures.faults))

pub returns-in_err-text-clause-writer : goal.returns-in_err-text-clause-writer
returns-in_err-text-clause-writer g c =
    let p = err_from_is_err_and c.from_residual.result c.from_residual.ensures.1 in
    rw (p.1, p.2) (unwritten g.S.ByteReader.reads g.W.ByteWriter.writes c.args.source.now c.read_all.new.reader c.args.out.now c.in_err-text.field-0.0 c.in_err-text.ensures.faults)

pub returns-in-Ok-clause-answer : goal.returns-in-Ok-clause-answer
returns-in-Ok-clause-answer g c =
    let kept = c.in_ok-text.ensures.kept in
    let front : c.deref.result.now ≡ take MOST_KEPT kept.bytes = c.deref.ensures.value ∙ kept.front in
    serves_accepted (IsRead g.S.ByteReader.remaining g.S.ByteReader.reads c.args.source.now c.read_all.new.reader) (IsRead g.I.ByteReader.remaining g.I.ByteReader.reads c.args.input.now c.answer.new.input) kept.bytes c.in-Ok.accepted c.args.options.now (g.W.ByteWriter.contents c.args.out.now) (g.W.ByteWriter.contents c.answer.new.out) c.answer.result kept.read (accepted_of c.deref.result.now kept.bytes c.in-Ok.accepted front c.in-Ok.ensures.accepted) c.answer.ensures.text

pub returns-in-Ok-clause-status : goal.returns-in-Ok-clause-status
returns-in-Ok-clause-status g c = answer_not_erroneous c.states_go_on.ensures (IsRead g.I.ByteReader.remaining g.I.ByteReader.reads c.args.input.now c.answer.new.input) c.in-Ok.accepted c.args.options.now.run c.args.options.now.trace c.args.options.now.steps (runner_before c.in-Ok.accepted c.args.options.now) (g.W.ByteWriter.contents c.args.out.now) (g.W.ByteWriter.contents c.answer.new.out) c.answer.result c.answer.ensures.safe c.answer.ensures.text

pub returns-in-Ok-clause-safe : goal.returns-in-Ok-clause-safe
returns-in-Ok-clause-safe g c =
    let kept = c.in_ok-text.ensures.kept in
    let front : c.deref.result.now ≡ take MOST_KEPT kept.bytes = c.deref.ensures.value ∙ kept.front in
    promises_accepted (IsRead g.S.ByteReader.remaining g.S.ByteReader.reads c.args.source.now c.read_all.new.reader) kept.bytes c.in-Ok.accepted c.answer.result kept.read (accepted_of c.deref.result.now kept.bytes c.in-Ok.accepted front c.in-Ok.ensures.accepted) c.answer.ensures.safe

pub returns-clause-safe : goal.returns-clause-safe
returns-clause-safe g c = promises_refused (IsRead g.S.ByteReader.remaining g.S.ByteReader.reads c.args.source.now c.read_all.new.reader) c.in-Err.verdict (g.W.ByteWriter.contents c.args.out.now) (g.W.ByteWriter.contents c.refuse.new.out) c.refuse.result c.refuse.ensures.text

pub returns-in-Ok-clause-readers : goal.returns-in-Ok-clause-readers
returns-in-Ok-clause-readers g c =
    let kept = c.in_ok-text.ensures.kept in
    let front : c.deref.result.now ≡ take MOST_KEPT kept.bytes = c.deref.ensures.value ∙ kept.front in
    inr (record {
      bytes = kept.bytes;
      source = kept.read;
      input = c.answer.ensures.input;
      asked = asks_more (c.args.options.now.run ≡ true) (IsToRun kept.bytes c.args.options.now.run) c.answer.result (λ e. record { program = c.in-Ok.accepted; accepted = accepted_of c.deref.result.now kept.bytes c.in-Ok.accepted front c.in-Ok.ensures.accepted; runs = e }) c.answer.ensures.asked;
      sizes = asked c.in-Ok.accepted (accepted_of c.deref.result.now kept.bytes c.in-Ok.accepted front c.in-Ok.ensures.accepted) c.answer.ensures.sizes;
    })

pub returns-clause-answer : goal.returns-clause-answer
returns-clause-answer g c =
    let kept = c.in_ok-text.ensures.kept in
    let front : c.deref.result.now ≡ take MOST_KEPT kept.bytes = c.deref.ensures.value ∙ kept.front in
    serves_refused (IsRead g.S.ByteReader.remaining g.S.ByteReader.reads c.args.source.now c.read_all.new.reader) (IsRead g.I.ByteReader.remaining g.I.ByteReader.reads c.args.input.now c.args.input.now) kept.bytes c.in-Err.verdict c.args.options.now (g.W.ByteWriter.contents c.args.out.now) (g.W.ByteWriter.contents c.refuse.new.out) c.refuse.result kept.read (first_of c.deref.result.now kept.bytes c.in-Err.verdict front c.in-Err.ensures.refused) c.refuse.ensures.text

pub returns-clause-readers : goal.returns-clause-readers
returns-clause-readers g c =
    let kept = c.in_ok-text.ensures.kept in
    let front : c.deref.result.now ≡ take MOST_KEPT kept.bytes = c.deref.ensures.value ∙ kept.front in
    inr (record {
      bytes = kept.bytes;
      source = kept.read;
      input = input_left g.I.ByteReader.remaining g.I.ByteReader.reads g.W.ByteWriter.writes c.args.input.now c.args.out.now c.refuse.new.out c.in-Err.verdict (g.W.ByteWriter.contents c.args.out.now) (g.W.ByteWriter.contents c.refuse.new.out) c.refuse.result c.refuse.ensures.text c.refuse.ensures.writer;
      asked = never_asks (IsToRun kept.bytes c.args.options.now.run) g.W.ByteWriter.writes c.args.out.now c.refuse.new.out c.refuse.result c.refuse.ensures.writer;
      sizes = sizes_unasked kept.bytes c.in-Err.verdict c.args.options.now g.W.ByteWriter.writes c.args.out.now c.refuse.new.out c.refuse.result (first_of c.deref.result.now kept.bytes c.in-Err.verdict front c.in-Err.ensures.refused) c.refuse.ensures.writer;
    })
