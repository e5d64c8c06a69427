-- The object stays in its collection, or out of it.
use Rattle.std.proofs.Common.{map}
use Rattle.ada_interpreter.specs.Objects.{all_of, kept_of}
use Rattle.ada_interpreter.proofs.MemberLemmas.{filled_shelved}
use Rattle.ada_interpreter.proofs.objects.Objects.store.Goals as goal

pub invariant_of-self : goal.invariant_of-self
invariant_of-self c = rw c.set_component.ensures (filled_shelved c.args.component.0 c.args.value (all_of c.self.inside.objects) (map kept_of c.self.inside.shelves.items) c.args.o c.self.invariant)
