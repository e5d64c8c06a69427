use Rattle.ada_effects.proofs.freed.Freed.add.Goals as goal
use Rattle.ada_effects.proofs.Collected.{numbers_after}

-- whether memory for the set was refused or not
pub invariant_of-self-then-not-contains : goal.invariant_of-self-then-not-contains
invariant_of-self-then-not-contains c = record {
  listed = rw c.in_ok-push.ensures.items
      (numbers_after c.insert_number.result c.args.self.now.known.items c.insert_number.new.set.items c.args.access c.args.self.now.list.items c.args.self.now.listed c.insert_number.ensures);
}
