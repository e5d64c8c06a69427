use Rattle.std.proofs.Common.{◌≡◌, ◌++◌, ℕ, List, ap, subst, ◌∙◌}
use Rattle.std.proofs.lemmas.Result.{err_from_is_err_and}
use Rattle.std.specs.Io.KnownBytes.{Appends}
use Rattle.ada_serve.specs.Texts.{stopped_text}
use Rattle.ada_serve.specs.Written.{AppendsFront}
use Rattle.ada_serve.proofs.Writing.{idle}
use Rattle.ada_serve.proofs.serve.stop.Goals as goal

pub returns-in_err-put_stopped-clause-writer : goal.returns-in_err-put_stopped-clause-writer
returns-in_err-put_stopped-clause-writer g c =
    let p = err_from_is_err_and c.from_residual.result c.from_residual.ensures.1 in
    rw (p.1, p.2) (idle g.W.ByteWriter.writes c.args.out.now)

pub returns-clause-text : goal.returns-clause-text
returns-clause-text g c =
    let whole : c.deref.result.now ≡ stopped_text c.args.limit =
    c.deref.ensures.value ∙ c.in_ok-put_stopped.ensures ∙ ap (λ (front : List ℕ). front ++ stopped_text c.args.limit) c.clear.ensures.items in
    subst (λ (text : List ℕ). Appends (g.W.ByteWriter.contents c.args.out.now) (g.W.ByteWriter.contents c.write_all.new.out) text) whole c.in_ok-write_all.ensures.text

pub returns-in_err-write_all-clause-text : goal.returns-in_err-write_all-clause-text
returns-in_err-write_all-clause-text g c =
    let whole : c.deref.result.now ≡ stopped_text c.args.limit =
    c.deref.ensures.value ∙ c.in_ok-put_stopped.ensures ∙ ap (λ (front : List ℕ). front ++ stopped_text c.args.limit) c.clear.ensures.items in
    let p = err_from_is_err_and c.from_residual-in_err-write_all.result c.from_residual-in_err-write_all.ensures.1 in
    rw (p.1) (subst (λ (text : List ℕ). AppendsFront (g.W.ByteWriter.contents c.args.out.now) (g.W.ByteWriter.contents c.write_all.new.out) text) whole c.in_err-write_all.ensures.text)
