-- The new item stands on the stack, and the innermost master counts it.
use Rattle.std.proofs.Common.{◌≡◌, ◌+◌, ap, ◌∙◌, refl, None, Some, arith, List, Option}
use Rattle.std.specs.List.{slice_get}
use Rattle.ada_interpreter.specs.Masters.{previous_of}
use Rattle.ada_interpreter.specs.declared.newest.Newest.{Newest}
use Rattle.ada_interpreter.proofs.MasterLemmas.{none_entered, same_kept, owned_again, owned_view}
use Rattle.ada_interpreter.proofs.masters.Masters.own.Goals as goal

pub returns-in_default : goal.returns-in_default
returns-in_default c =
    let none : slice_get c.self.inside.entered 0 ≡ None = cc in
    rw (← c.self.view_is, none_entered c.self.inside.entered c.self.inside.items none) refl

pub invariant_of-self-in_err-push : goal.invariant_of-self-in_err-push
invariant_of-self-in_err-push c = rw c.in_err-push.ensures.unchanged (same_kept c.self.inside.collections.items c.self.inside.pools.items c.make_room.new.newest.items c.make_room-2.new.newest.items c.self.inside.pool_count c.self.inside.entered c.self.inside.items c.make_room.ensures.same c.make_room-2.ensures.same c.self.invariant)

pub invariant_of-self-2 : goal.invariant_of-self-2
invariant_of-self-2 c =
    let top : slice_get c.self.inside.entered 0 ≡ Some c.in-Some.master = cc in
    let one : c.in-Some-checked_add.count ≡ c.in-Some.master.count + 1 = grind arith in
    let previous = c.previous_of-previous.ensures
    ∙ ap (λ (newest : List (Option Newest)). previous_of newest c.as_slice-2.result.now c.args.owned) c.as_slice.ensures.value
    ∙ ap (λ (newest : List (Option Newest)). previous_of c.make_room.new.newest.items newest c.args.owned) c.as_slice-2.ensures.value in
    owned_again c.self.inside.collections.items c.make_room.new.newest.items c.set_newest.new.newest.items c.self.inside.pools.items c.make_room-2.new.newest.items c.set_newest-2.new.newest.items c.self.inside.pool_count c.in_ok-pool_count.pool_count c.self.inside.entered c.set_top.new.self c.self.inside.items c.push.new.self c.in-Some.master c.args.owned c.access-access.result c.declaration-declaration.result c.pool.result c.in-Some-checked_add.count c.len.result c.previous_of-previous.result top c.access-access.ensures c.declaration-declaration.ensures c.pool.ensures c.in_ok-make_room.ensures.room c.in_ok-make_room-2.ensures.room c.make_room.ensures.same c.make_room-2.ensures.same one c.len.ensures
    c.in_ok-pool_count.ensures
    previous
    c.in_ok-push.ensures.pushed
    c.set_newest.ensures
    c.set_newest-2.ensures
    c.set_top.ensures
    c.self.invariant

pub returns : goal.returns
returns c =
    let top : slice_get c.self.inside.entered 0 ≡ Some c.in-Some.master = cc in
    let one : c.in-Some-checked_add.count ≡ c.in-Some.master.count + 1 = grind arith in
    rw (← c.self.view_is) (owned_view c.self.inside.entered c.set_top.new.self c.self.inside.items c.push.new.self c.in-Some.master c.args.owned c.in-Some-checked_add.count c.previous_of-previous.result top one c.in_ok-push.ensures.pushed c.set_top.ensures c.self.invariant.owned)
