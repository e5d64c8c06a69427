-- The entries of one collection change.
use Rattle.std.proofs.Common.{map, refl, arith}
use Rattle.std.proofs.lemmas.List.{length-map, map-set}
use Rattle.ada_interpreter.specs.Objects.{all_of, kept_of, nothing_kept}
use Rattle.ada_interpreter.proofs.ChangeLemmas.{get_form_or}
use Rattle.ada_interpreter.proofs.MemberLemmas.{tidied_one}
use Rattle.ada_interpreter.proofs.objects.sweep.Goals as goal

pub returns-then-index-len : goal.returns-then-index-len
returns-then-index-len c =
    let kept = map kept_of c.args.shelves.now.items in
    let shelf = c.index_mut-shelf.result.now in
    rw (map-set kept_of c.args.shelves.now.items c.in-Some.item)
    (tidied_one (all_of c.args.objects.now) kept c.in-Some.item (kept_of shelf) (record { entries = c.keep_members.new.entries.items; live = shelf.live }) (omega (arith, length-map c.args.shelves.now.items kept_of)) (get_form_or kept_of c.args.shelves.now.items c.in-Some.item shelf nothing_kept (omega arith) c.index_mut-shelf.ensures.value) (record { trims = c.keep_members.ensures; live = refl }))
