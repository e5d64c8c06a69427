-- The part was there.
use Rattle.std.proofs.Common.{ap, ◌∙◌}
use Rattle.ada_meaning.specs.Heap.{PartState}
use Rattle.ada_meaning.specs.Named.{object_at, changed, finalized_part}
use Rattle.ada_interpreter.specs.Objects.{with_part_state}
use Rattle.ada_interpreter.specs.Treatment.{part_form}
use Rattle.ada_interpreter.proofs.TurnLemmas.{part_changed}
use Rattle.ada_interpreter.proofs.objects.Objects.finalize.Goals as goal

pub returns : goal.returns
returns c =
    let xs = c.args.self.now in
    let o = c.args.o in
    c.set_part.ensures
    ∙ ap (λ (p : PartState). changed (with_part_state c.args.part p) (object_at xs o) xs o) c.in_ok-ended.ensures
    ∙ part_changed finalized_part c.args.part (part_form c.args.state) xs o c.requires
