-- A past object is in no collection.
use Rattle.std.proofs.Common.{map}
use Rattle.ada_interpreter.specs.Objects.{all_of, kept_of}
use Rattle.ada_interpreter.proofs.MemberLemmas.{forgotten_shelved}
use Rattle.ada_interpreter.proofs.objects.Objects.forget.Goals as goal

pub invariant_of-self : goal.invariant_of-self
invariant_of-self c = rw c.forget.ensures (forgotten_shelved (all_of c.self.inside.objects) (map kept_of c.self.inside.shelves.items) c.args.o c.self.invariant)
