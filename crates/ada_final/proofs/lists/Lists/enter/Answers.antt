-- The number that waited is one of the lists', and no list is entered there.
use Rattle.std.proofs.Common.{◌≡◌, true, [], length, nat_lt, ap, refl, arith}
use Rattle.std.proofs.lemmas.Bool.{lt-ltb}
use Rattle.ada_final.proofs.UnusedLemmas.{last_is_vacant, enter_keeps}
use Rattle.ada_final.proofs.lists.Lists.enter.Goals as goal

pub index_mut-requires : goal.index_mut-requires
index_mut-requires c =
    omega (arith, (last_is_vacant _ _ _ _ c.self.invariant _ c.in-Some.ensures.items).0)

pub invariant_of-self : goal.invariant_of-self
invariant_of-self c =
    rw (c.list.view_is, c.enter.ensures, c.pop.ensures.capacity)
    (enter_keeps _ _ _ _ c.self.invariant _ [] c.in-Some.ensures.items)

pub returns-in-Some-clause-unused : goal.returns-in-Some-clause-unused
returns-in-Some-clause-unused c =
    rw (← c.self.view_is) (last_is_vacant _ _ _ _ c.self.invariant _ c.in-Some.ensures.items).1

pub returns-in-Some-clause-ok : goal.returns-in-Some-clause-ok
returns-in-Some-clause-ok c =
    let vacant = last_is_vacant _ _ _ _ c.self.invariant _ c.in-Some.ensures.items in
    let within : nat_lt c.in-Some.list (length c.self.inside.slots.items) ≡ true = lt-ltb _ _ vacant.0 in
    rw (← c.self.view_is, c.list.view_is, c.enter.ensures, within) refl

pub returns-in-Some-clause-next : goal.returns-in-Some-clause-next
returns-in-Some-clause-next c =
    let vacant = last_is_vacant _ _ _ _ c.self.invariant _ c.in-Some.ensures.items in
    λ past. absurd (omega (arith, vacant.0, ap length c.self.view_is))
