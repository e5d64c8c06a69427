-- No member is taken off.
use Rattle.std.proofs.Common.{map}
use Rattle.ada_interpreter.specs.Objects.{all_of, kept_of}
use Rattle.ada_interpreter.proofs.MemberLemmas.{tidied_shelved}
use Rattle.ada_interpreter.proofs.objects.Objects.member.Goals as goal

pub invariant_of-self : goal.invariant_of-self
invariant_of-self c = tidied_shelved (all_of c.self.inside.objects) (map kept_of c.self.inside.shelves.items) (map kept_of c.tidy.new.shelves.items) c.tidy.ensures c.self.invariant
