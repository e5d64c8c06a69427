use Rattle.ada_effects.specs.Taken.{set_of}
use Rattle.ada_effects.proofs.found.Found.add.Goals as goal
use Rattle.ada_effects.proofs.Collected.{listed_after}

-- whether memory for the set was refused or not
pub invariant_of-self-then-not-contains-2 : goal.invariant_of-self-then-not-contains-2
invariant_of-self-then-not-contains-2 c = record {
  listed = rw c.in_ok-push.ensures.items
      (listed_after c.insert.result (set_of c.args.self.now.known) (set_of c.insert.new.self) c.args.exception c.args.self.now.list.items c.args.self.now.listed c.insert.ensures);
}
