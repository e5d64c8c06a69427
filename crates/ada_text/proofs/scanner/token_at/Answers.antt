use Rattle.std.proofs.Common.{◌<◌, drop, length, arith, sym, ◌∙◌, subst}
use Rattle.std.proofs.lemmas.List.{length-drop, take_rest}
use Rattle.ada_text.specs.Token.{kind_of}
use Rattle.ada_text.specs.Reading.{Names, IsFlawAt}
use Rattle.ada_text.proofs.ElementLemmas.{element_takes}
use Rattle.ada_text.proofs.ReadingLemmas.{refusal_names}
use Rattle.ada_text.proofs.scanner.token_at.Goals as goal

-- the token's bytes are the source's
pub overflow_add-result : goal.overflow_add-result
overflow_add-result c =
    let some : 0 < length (drop c.args.place.at c.args.source.now) = simp length-drop (omega arith) in
    let takes = element_takes (drop c.args.place.at c.args.source.now) (kind_of c.in-Ok.kind) c.in-Ok.len some (rw take_rest at c.in-Ok.ensures) in
    omega (arith, takes.within, length-drop c.args.place.at c.args.source.now)

pub returns-in-Err-clause-fault : goal.returns-in-Err-clause-fault
returns-in-Err-clause-fault c =
    subst (Names (IsFlawAt c.args.source.now c.args.place.at) ⊥) (sym c.fault_at.ensures)
    (refusal_names c.args.source.now c.args.place.at c.spot.result c.in-Err.refusal (rw take_rest at c.in-Err.ensures)
    (c.spot.ensures.line ∙ c.requires.here.line) (c.spot.ensures.column ∙ c.requires.here.column))
