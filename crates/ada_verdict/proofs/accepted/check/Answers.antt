use Rattle.ada_verdict.proofs.Firsts.{refused_rightly}
use Rattle.ada_verdict.proofs.accepted.check.Goals as goal

pub returns-clause-only : goal.returns-clause-only
returns-clause-only c =
    refused_rightly c.args.source.now c.checked.result (c.accepted_sources_have_no_fault.ensures c.args.source.now) c.checked.ensures.refused
