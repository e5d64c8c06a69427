-- The object stays in its collection, or out of it.
use Rattle.std.proofs.Common.{map, refl, sym}
use Rattle.ada_interpreter.specs.Objects.{all_of, kept_of}
use Rattle.ada_interpreter.proofs.MemberLemmas.{filled_from_shelved}
use Rattle.ada_interpreter.proofs.RecordLemmas.{stored_is}
use Rattle.ada_interpreter.proofs.objects.Objects.store_from.Goals as goal

pub invariant_of-self : goal.invariant_of-self
invariant_of-self c = rw c.set_components.ensures (filled_from_shelved c.args.first.0 c.args.values.now (all_of c.self.inside.objects) (map kept_of c.self.inside.shelves.items) c.args.o c.self.invariant)

pub returns : goal.returns
returns c = rw (c.set_components.ensures, sym c.self.view_is, stored_is) refl
