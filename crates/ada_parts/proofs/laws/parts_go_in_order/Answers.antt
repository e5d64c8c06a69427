use Rattle.ada_parts.specs.declared.tasks.Direction.TheVariants.{PartsFirst, WholeFirst}
use Rattle.ada_parts.specs.Law.{PartsComeFirst, WholesComeFirst}
use Rattle.ada_parts.proofs.Orders.{parts_come_first, wholes_come_first}
use Rattle.ada_parts.proofs.Runs.{known_opened}
use Rattle.ada_parts.proofs.Whole.{one_by_one}
use Rattle.ada_parts.proofs.laws.parts_go_in_order.Goals as goal

inner : PartsComeFirst
inner shapes PartsFirst of first steps calls last table lt run is = parts_come_first shapes of first table lt run (known_opened shapes PartsFirst of first table lt)
inner shapes WholeFirst of first steps calls last table lt run is = absurd (cc is)

outer : WholesComeFirst
outer shapes WholeFirst of first steps calls last table lt run is end = wholes_come_first shapes of first table lt run end (known_opened shapes WholeFirst of first table lt)
outer shapes PartsFirst of first steps calls last table lt run is end = absurd (cc is)

pub returns : goal.returns
returns c = record {
  parts_first = inner;
  wholes_first = outer;
  one_by_one = λ shapes direction of first steps calls last table lt run i more c later e then. one_by_one shapes direction of first table lt run i more c later e then;
}
