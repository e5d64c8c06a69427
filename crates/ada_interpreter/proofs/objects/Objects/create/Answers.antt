-- The new object is a member of the collection of its home.
use Rattle.std.proofs.Common.{map, refl, arith}
use Rattle.std.proofs.lemmas.List.{length-map}
use Rattle.ada_interpreter.specs.Objects.{cell_of, all_of, kept_of}
use Rattle.ada_interpreter.proofs.MemberLemmas.{created_again}
use Rattle.ada_interpreter.proofs.objects.Objects.create.Goals as goal

pub invariant_of-self-2 : goal.invariant_of-self-2
invariant_of-self-2 c =
    created_again (all_of c.self.inside.objects) (all_of c.push_reserved.new.self) (map kept_of c.self.inside.shelves.items) (map kept_of c.make_shelves.new.shelves.items) (map kept_of c.enter.new.shelves.items) (cell_of c.args.cell) c.count.result
    (rw (c.push_reserved.ensures, c.reserve.ensures.same) refl)
    c.make_shelves.ensures.same
    c.in_ok-enter.ensures.ok
    c.count.ensures
    (omega (arith, c.in_ok-make_shelves.ensures.room, length-map c.make_shelves.new.shelves.items kept_of))
    c.self.invariant
