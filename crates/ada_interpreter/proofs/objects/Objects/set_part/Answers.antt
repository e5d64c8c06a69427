-- The object stays in its collection, or out of it.
use Rattle.std.proofs.Common.{map}
use Rattle.ada_interpreter.specs.Objects.{all_of, kept_of}
use Rattle.ada_interpreter.specs.Treatment.{part_form}
use Rattle.ada_interpreter.proofs.MemberLemmas.{part_state_shelved}
use Rattle.ada_interpreter.proofs.objects.Objects.set_part.Goals as goal

pub invariant_of-self : goal.invariant_of-self
invariant_of-self c = rw c.set_part_state.ensures (part_state_shelved c.args.part (part_form c.args.state) (all_of c.self.inside.objects) (map kept_of c.self.inside.shelves.items) c.args.o c.self.invariant)
