-- The newest item of the innermost master stands at the end of the stack.
use Rattle.std.proofs.Common.{◌≡◌, ◌<◌, refl, None, Some, arith}
use Rattle.std.specs.List.{slice_get}
use Rattle.ada_interpreter.proofs.MasterLemmas.{none_entered, none_shorter, has_item, shorter_view, shortened}
use Rattle.ada_interpreter.proofs.masters.Masters.shorten.Goals as goal

pub returns-in_default : goal.returns-in_default
returns-in_default c =
    let none : slice_get c.self.inside.entered 0 ≡ None = cc in
    rw (← c.self.view_is, none_entered c.self.inside.entered c.self.inside.items none) refl

pub returns-then-master-eq0 : goal.returns-then-master-eq0
returns-then-master-eq0 c =
    let top : slice_get c.self.inside.entered 0 ≡ Some c.in-Some.master = cc in
    rw (← c.self.view_is) (none_shorter c.self.inside.entered c.self.inside.items c.in-Some.master top (omega arith))

pub returns-in_default-at : goal.returns-in_default-at
returns-in_default-at c =
    let top : slice_get c.self.inside.entered 0 ≡ Some c.in-Some.master = cc in
    let none : slice_get c.self.inside.items 0 ≡ None = cc in
    absurd (has_item c.self.inside.entered c.self.inside.items c.in-Some.master top (omega arith) none c.self.invariant.owned)

pub invariant_of-self : goal.invariant_of-self
invariant_of-self c =
    let top : slice_get c.self.inside.entered 0 ≡ Some c.in-Some.master = cc in
    let item : slice_get c.self.inside.items 0 ≡ Some c.in-Some-at.item = cc in
    let some : 0 < c.in-Some.master.count = omega arith in
    shortened c.self.inside.collections.items c.set_newest.new.newest.items c.self.inside.pools.items c.set_newest-2.new.newest.items c.self.inside.pool_count c.uncounted-self-inside.result c.self.inside.entered c.set_top.new.self c.self.inside.items c.shorten.new.self c.in-Some.master c.in-Some-at.item c.access.result c.declaration.result top item some c.access.ensures c.declaration.ensures c.set_newest.ensures c.set_newest-2.ensures c.uncounted-self-inside.ensures c.set_top.ensures c.shorten.ensures c.self.invariant

pub returns : goal.returns
returns c =
    let top : slice_get c.self.inside.entered 0 ≡ Some c.in-Some.master = cc in
    let item : slice_get c.self.inside.items 0 ≡ Some c.in-Some-at.item = cc in
    let some : 0 < c.in-Some.master.count = omega arith in
    rw (c.set_top.ensures, c.shorten.ensures, ← c.self.view_is) (shorter_view c.self.inside.entered c.self.inside.items c.in-Some.master c.in-Some-at.item top item some)
