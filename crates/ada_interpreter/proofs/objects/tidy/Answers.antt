-- The entries of one collection change.
use Rattle.std.proofs.Common.{map, refl, arith}
use Rattle.std.proofs.lemmas.List.{map-set}
use Rattle.ada_interpreter.specs.Objects.{all_of, kept_of, nothing_kept}
use Rattle.ada_interpreter.proofs.ChangeLemmas.{get_form_or}
use Rattle.ada_interpreter.proofs.MemberLemmas.{tidied_one}
use Rattle.std.proofs.lemmas.List.{length-map}
use Rattle.ada_interpreter.proofs.objects.tidy.Goals as goal

pub returns-then-item-len : goal.returns-then-item-len
returns-then-item-len c =
    let kept = map kept_of c.args.shelves.now.items in
    rw (map-set kept_of c.args.shelves.now.items c.args.item)
    (tidied_one (all_of c.args.objects.now) kept c.args.item (kept_of c.index_mut-shelf.result.now) (record { entries = c.trim.new.entries.items; live = c.index_mut-shelf.result.now.live }) (omega (arith, length-map c.args.shelves.now.items kept_of)) (get_form_or kept_of c.args.shelves.now.items c.args.item c.index_mut-shelf.result.now nothing_kept (omega arith) c.index_mut-shelf.ensures.value) (record { trims = c.trim.ensures; live = refl }))
