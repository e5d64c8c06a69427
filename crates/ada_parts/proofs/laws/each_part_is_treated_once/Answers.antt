use Rattle.std.proofs.Common.{List, ◌++◌, ap, ◌∙◌, subst}
use Rattle.std.specs.List.Sorted.{IsPermutation}
use Rattle.std.proofs.lemmas.List.{append-nil}
use Rattle.std.proofs.lemmas.List.Sorted.{IsPermutation-trans}
use Rattle.ada_parts.specs.Part.{parts_at}
use Rattle.ada_parts.specs.Task.{Task, opened}
use Rattle.ada_parts.specs.Law.{EachOnce, parts_left}
use Rattle.ada_parts.proofs.Runs.{known_opened, left_opened, each_once}
use Rattle.ada_parts.proofs.laws.each_part_is_treated_once.Goals as goal

once : EachOnce
once shapes direction of first steps calls last table lt run =
    IsPermutation-trans (parts_at shapes of first) (parts_left shapes (opened shapes direction of first)) (calls ++ parts_left shapes last)
    (left_opened shapes direction of first table lt)
    (each_once shapes direction table run (known_opened shapes direction of first table lt))

pub returns : goal.returns
returns c = record {
  once = once;
  in_the_end = λ shapes direction of first steps calls last table lt run end.
      subst (IsPermutation (parts_at shapes of first)) (ap (λ (ts : List Task). calls ++ parts_left shapes ts) end ∙ append-nil calls)
      (once shapes direction of first steps calls last table lt run);
}
