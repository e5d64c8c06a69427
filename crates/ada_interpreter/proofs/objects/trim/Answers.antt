-- What is left of names that were given was given.
use Rattle.ada_interpreter.proofs.MemberLemmas.{given-take}
use Rattle.ada_interpreter.proofs.objects.trim.Goals as goal

pub returns : goal.returns
returns c = record {
  members = rw c.truncate.ensures.items c.entries.invariant.1;
  given = λ n given. rw c.truncate.ensures.items (given-take n c.entries.n c.args.entries.now.items given);
}
