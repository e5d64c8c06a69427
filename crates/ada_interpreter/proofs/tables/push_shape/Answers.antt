-- Only components that have parts count.
use Rattle.std.proofs.Common.{ℕ, List, sym, subst}
use Rattle.std.specs.List.{All}
use Rattle.ada_meaning.proofs.Treatments.{HasParts, components_some}
use Rattle.ada_interpreter.proofs.tables.push_shape.Goals as goal

pub push-requires : goal.push-requires
push-requires c =
    subst (λ (ts : List ℕ). All (HasParts c.args.shapes.now) ts) (sym c.in_ok-components.ensures)
    (components_some c.args.types.now c.args.shapes.now c.args.parts.now)
