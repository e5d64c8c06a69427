-- What stands at the end of the stack is the newest item of the innermost master.
use Rattle.std.proofs.Common.{◌≡◌, ◌<◌, sym, refl, None, Some, arith}
use Rattle.std.specs.List.{slice_get}
use Rattle.ada_interpreter.proofs.MasterLemmas.{none_entered, no_item_left, has_item, comes_upon}
use Rattle.ada_interpreter.proofs.masters.Masters.remains.Goals as goal

pub returns-in_default : goal.returns-in_default
returns-in_default c =
    let none : slice_get c.self.inside.entered 0 ≡ None = cc in
    rw (← c.self.view_is, none_entered c.self.inside.entered c.self.inside.items none) refl

pub returns-then-master-eq0 : goal.returns-then-master-eq0
returns-then-master-eq0 c =
    let top : slice_get c.self.inside.entered 0 ≡ Some c.in-Some.master = cc in
    rw (← c.self.view_is) (sym (no_item_left c.self.inside.entered c.self.inside.items c.in-Some.master top (omega arith)))

pub returns-in-None : goal.returns-in-None
returns-in-None c =
    let top : slice_get c.self.inside.entered 0 ≡ Some c.in-Some.master = cc in
    let none : slice_get c.self.inside.items 0 ≡ None = cc in
    absurd (has_item c.self.inside.entered c.self.inside.items c.in-Some.master top (omega arith) none c.self.invariant.owned)

pub returns-in-Declared : goal.returns-in-Declared
returns-in-Declared c =
    let top : slice_get c.self.inside.entered 0 ≡ Some c.in-Some.master = cc in
    let item : slice_get c.self.inside.items 0 ≡ Some c.in-Some-at.item = cc in
    let some : 0 < c.in-Some.master.count = omega arith in
    rw (← c.self.view_is) (sym (rw c.in-Declared.is at (comes_upon c.self.inside.entered c.self.inside.items c.in-Some.master c.in-Some-at.item top item some)))

pub returns-in-Collection : goal.returns-in-Collection
returns-in-Collection c =
    let top : slice_get c.self.inside.entered 0 ≡ Some c.in-Some.master = cc in
    let item : slice_get c.self.inside.items 0 ≡ Some c.in-Some-at.item = cc in
    let some : 0 < c.in-Some.master.count = omega arith in
    rw (← c.self.view_is, c.len.ensures) (sym (rw c.in-Collection.is at (comes_upon c.self.inside.entered c.self.inside.items c.in-Some.master c.in-Some-at.item top item some)))

pub returns-in-Record : goal.returns-in-Record
returns-in-Record c =
    let top : slice_get c.self.inside.entered 0 ≡ Some c.in-Some.master = cc in
    let item : slice_get c.self.inside.items 0 ≡ Some c.in-Some-at.item = cc in
    let some : 0 < c.in-Some.master.count = omega arith in
    rw (← c.self.view_is, c.len-in-Record.ensures) (sym (rw c.in-Record.is at (comes_upon c.self.inside.entered c.self.inside.items c.in-Some.master c.in-Some-at.item top item some)))

pub returns-in-Pool : goal.returns-in-Pool
returns-in-Pool c =
    let top : slice_get c.self.inside.entered 0 ≡ Some c.in-Some.master = cc in
    let item : slice_get c.self.inside.items 0 ≡ Some c.in-Some-at.item = cc in
    let some : 0 < c.in-Some.master.count = omega arith in
    rw (← c.self.view_is) (sym (rw c.in-Pool.is at (comes_upon c.self.inside.entered c.self.inside.items c.in-Some.master c.in-Some-at.item top item some)))
