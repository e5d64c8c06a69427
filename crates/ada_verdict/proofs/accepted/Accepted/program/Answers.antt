use Rattle.std.proofs.Common.{subst}
use Rattle.ada_flow.specs.Flow.{ObeysRules}
use Rattle.ada_meaning.specs.Pace.{DeclarationsSettle}
use Rattle.ada_program.specs.declared.program.Program.{Program}
use Rattle.ada_program.specs.ProgramForm.{body_forms}
use Rattle.ada_verdict.proofs.accepted.Accepted.program.Goals as goal

-- it has passed all checks
pub returns-clause-formed : goal.returns-clause-formed
returns-clause-formed c = rw (← c.self.view_is) c.self.invariant.0.well_formed

-- so its operations are in use
pub returns-clause-in_use : goal.returns-clause-in_use
returns-clause-in_use c = rw (← c.self.view_is) c.self.invariant.0.in_use

-- and flow breaks no rule
pub returns-clause-rules : goal.returns-clause-rules
returns-clause-rules c = subst ObeysRules c.self.view_is c.self.invariant.0.obeys

-- and what its declarations create comes to an end
pub returns-clause-settles : goal.returns-clause-settles
returns-clause-settles c =
    subst (λ (p : Program). DeclarationsSettle p.types.items (body_forms p)) c.self.view_is
    (c.no_circle_settles.ensures c.self.inside.program c.self.invariant.0.well_formed c.self.invariant.1)
