use Rattle.std.proofs.Common.{◌≡◌, map, sym, subst}
use Rattle.std.specs.Prelude.{Ok}
use Rattle.ada_text.specs.Exactly.{Exactly}
use Rattle.ada_effects.specs.Effects.{passes}
use Rattle.ada_program.specs.Form.{declaration_form, handlers_form, stmts_form}
use Rattle.ada_flow.specs.Flow.{stmts_flow}
use Rattle.ada_flow.specs.Told.{Noted, around_of, breach_of, effects_in, ending, held, noted, noted_for, types_in, variables_in}
use Rattle.ada_flow.proofs.Noted.{End, parts_end}
use Rattle.ada_flow.proofs.bodies.parts.Goals as goal

pub returns : goal.returns
returns c =
    let around = c.args.around.now in
    let fs = stmts_form c.args.statements.now in
    let hs = handlers_form c.args.handlers.now in
    let at = c.declare.new.known.holds.items in
    let ended : ending (noted_for (noted c.declare.new.raised) hs) (stmts_flow (types_in around) (variables_in around) (around_of around) fs at) ≡ Ok (held c.in_ok-end.end, noted c.statements.new.raised) =
    subst (λ (o : Noted). ending o (stmts_flow (types_in around) (variables_in around) (around_of around) fs at) ≡ Ok (held c.in_ok-end.end, noted c.statements.new.raised)) c.with_handlers-inner.ensures c.in_ok-end.ensures in
    subst (λ (e : End). Exactly (λ normal. (held normal, noted c.handled.new.raised)) breach_of c.handled.result e)
    (sym (parts_end (noted c.args.raised.now) (noted c.declare.new.raised) (noted c.statements.new.raised) (types_in around) (variables_in around) (around_of around) (passes (effects_in around) fs hs)
    (map declaration_form c.args.declarations.now) fs hs c.args.known.holds.items at (held c.in_ok-end.end) c.in_ok-declare.ensures ended))
    c.handled.ensures
