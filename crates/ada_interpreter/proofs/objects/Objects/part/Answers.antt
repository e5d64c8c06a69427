-- The collection that the object was in has a member less, and names of members only are dropped from none.
use Rattle.std.proofs.Common.{map}
use Rattle.ada_interpreter.specs.Objects.{all_of, kept_of}
use Rattle.ada_interpreter.proofs.MemberLemmas.{parted_shelved, tidied_shelved}
use Rattle.ada_interpreter.proofs.objects.Objects.part.Goals as goal

pub invariant_of-self : goal.invariant_of-self
invariant_of-self c =
    tidied_shelved (all_of c.unlist-home.new.self) (map kept_of c.discount.new.shelves.items) (map kept_of c.sweep.new.shelves.items) c.sweep.ensures
    (rw (c.unlist-home.ensures.parted, c.discount.ensures, c.unlist-home.ensures.home) (parted_shelved (all_of c.self.inside.objects) (map kept_of c.self.inside.shelves.items) c.args.o c.self.invariant))
