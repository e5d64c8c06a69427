-- What callers rely on lies in masters that were entered before their calls, if its words are out: none of it goes while a body is left.

use Rattle.std.proofs.Common.{◌≡◌, ℕ, zero, suc, ◌≤◌, Bool, true, false, List, [], ◌∷◌, ◌++◌, length, refl, sym, ◌∙◌, arith, length-append, ◌⊎◌, inl, inr}
use Rattle.std.specs.Prelude.{Option, Some, None, ◌==◌}
use Rattle.std.specs.List.{slice_get}
use Rattle.std.proofs.lemmas.Bool.{eqb-true}
use Rattle.ada_effects.specs.Effects.{Implicit}
use Rattle.ada_program.specs.ProgramForm.{ProgramForm}
use Rattle.ada_flow.specs.Flow.{Holds}
use Rattle.ada_meaning.specs.declared.state.Id.{Id}
use Rattle.ada_meaning.specs.declared.state.Value.TheVariants.{Names}
use Rattle.ada_meaning.specs.declared.state.Mode.{Mode}
use Rattle.ada_meaning.specs.Frame.{Leaves}
use Rattle.ada_meaning.specs.State.{Item, Master, height}
use Rattle.ada_meaning.specs.Law.{items_of}
use Rattle.ada_meaning.specs.Named.{Object, object_at}
use Rattle.ada_scopes.specs.Scopes.{is_number_of}
use Rattle.ada_sound.proofs.Fits.{Outer, outer_hold, outer_value, IsRelied, IsReferred, referred_either}
use Rattle.ada_sound.proofs.Items.{Counted, height_is}
use Rattle.ada_sound.proofs.Leavings.{NamedBelow}
use Rattle.ada_sound.proofs.Invariant.{Known, Control, Caller, Rooms, Roomed, RunsOn, Parting, AllWait, waits_roomed, OneAwaits, LiesBelow, LieBelow, below, below_callers, outers, held_first, outer_in, referenced_in, under_in}
use Rattle.ada_sound.proofs.Stored.{IsUnder}

-- Masters with rooms stand above those of the callers.
pub roomed_high : (below ms : List Master) (rooms : Rooms) → Roomed below ms rooms → height below ≤ height ms
roomed_high below ms [] r = rw r (omega arith)
roomed_high below [] (gone ∷ rooms) r = absurd r
roomed_high below (m ∷ ms) (gone ∷ rooms) r = let high = roomed_high below ms rooms r.1 in omega (arith, high)

-- The number of one of the first items is that of those behind them, or more.
inner_high : (is js : List Item) (n : ℕ) → Counted (is ++ js) → is_number_of is n ≡ true → length js ≤ n
inner_high [] js n c e = absurd (cc e)
inner_high (i ∷ is) js n c e = go (i.number == n) refl (λ among. inner_high is js n c.1 among)
  where
    go : (b : Bool) → (i.number == n) ≡ b → (is_number_of is n ≡ true → length js ≤ n) → length js ≤ n
    go true same others = let at = eqb-true i.number n same in let count = c.0 in omega (arith, at, count, length-append is js)
    go false same others = others (rw same at e)

-- What lies below a number of items has its home there, where its words are out, or nothing is so around.
is_low : (heap : List Object) (items : ℕ) (Around : Type 0) (o : Id) (object : Object) → LiesBelow heap items Around o → object_at heap o ≡ Some object → (object.out ≡ false → Around → ⊥) → suc object.cell.home.item ≤ items
is_low heap items Around o object lies found strict =
    let same : lies.0 ≡ object = some_same lies.0 object (sym lies.1 ∙ found) in
    by (rw same at lies.2)
  where
    some_same : (x y : Object) → Some x ≡ Some y → x ≡ y
    some_same x y e = cc e

    by : (suc object.cell.home.item ≤ items) ⊎ ((object.out ≡ false) × Around) → suc object.cell.home.item ≤ items
    by (inl low) = low
    by (inr (back, around)) = absurd (strict back around)

-- What is held comes first: it lies low, and so do the others.
held_low : (heap : List Object) (held : Option Outer) (others : List Outer) (count : ℕ) (Around : Type 0) → ((x : ℕ) (o : Id) → IsRelied (outer_hold held x) → outer_value held x ≡ Names o → LiesBelow heap count Around o)
    → ((d x : ℕ) (o : Id) (object : Object) → IsRelied (outer_hold (slice_get others d) x) → outer_value (slice_get others d) x ≡ Names o → object_at heap o ≡ Some object → (object.out ≡ false → Around → ⊥) → suc object.cell.home.item ≤ count)
    → (d x : ℕ) (o : Id) (object : Object) → IsRelied (outer_hold (slice_get (held_first held others) d) x) → outer_value (slice_get (held_first held others) d) x ≡ Names o → object_at heap o ≡ Some object → (object.out ≡ false → Around → ⊥) → suc object.cell.home.item ≤ count
held_low heap None others count Around low before d x o object relied names found strict = before d x o object relied names found strict
held_low heap (Some held) others count Around low before zero x o object relied names found strict = is_low heap count Around o object (low x o relied names) found strict
held_low heap (Some held) others count Around low before (suc d) x o object relied names found strict = before d x o object relied names found strict

-- What a caller relies on lies below the masters of the running body, where its words are out, or no caller waits for an operation.
low_so : (heap : List Object) (implicit : Implicit) (body : ProgramForm) (callers : List Caller) → AllWait implicit body callers → LieBelow heap callers → (d x : ℕ) (o : Id) (object : Object) → IsRelied (outer_hold (slice_get (outer_in callers) d) x) → outer_value (slice_get (outer_in callers) d) x ≡ Names o → object_at heap o ≡ Some object → (object.out ≡ false → OneAwaits callers → ⊥) → suc object.cell.home.item ≤ height (below_callers callers)
low_so heap implicit body [] waits low d x o object relied names found strict = absurd relied
low_so heap implicit body (w ∷ ws) waits low zero x o object relied names found strict =
    is_low heap (height w.masters) (OneAwaits ws) o object (low.0 x o relied names) found (λ back around. strict back (inr around))
low_so heap implicit body (w ∷ ws) waits low (suc d) x o object relied names found strict =
    held_low heap w.held (outer_in ws) (height w.masters) (OneAwaits ws) low.4
    (λ e y p q relies is there strictly.
    let lower = low_so heap w.implicit w.program ws waits.1 low.3 e y p q relies is there strictly in
    let high = roomed_high (below_callers ws) w.masters w.rooms (waits_roomed waits.0) in
    omega (arith, lower, high)) d x o object relied names found (λ back around. strict back (inr around))

-- So does what its call refers to.
lower_or_here : (heap : List Object) (w : Caller) (ws : List Caller) → ((o : Id) (t : ℕ) → IsReferred w.referenced o t → LiesBelow heap (height w.masters) (OneAwaits ws) o) → (o : Id) (t : ℕ) (object : Object) → object_at heap o ≡ Some object → (object.out ≡ false → OneAwaits ws → ⊥) → Roomed (below_callers ws) w.masters w.rooms → (IsReferred (referenced_in ws) o t → suc object.cell.home.item ≤ height (below_callers ws)) → IsReferred w.referenced o t ⊎ IsReferred (referenced_in ws) o t → suc object.cell.home.item ≤ height w.masters
lower_or_here heap w ws low o t object found strict roomed before (inl here) = is_low heap (height w.masters) (OneAwaits ws) o object (low o t here) found strict
lower_or_here heap w ws low o t object found strict roomed before (inr there) =
    let lower = before there in
    let high = roomed_high (below_callers ws) w.masters w.rooms roomed in
    omega (arith, lower, high)

referred_so : (heap : List Object) (implicit : Implicit) (body : ProgramForm) (callers : List Caller) → AllWait implicit body callers → LieBelow heap callers → (o : Id) (t : ℕ) (object : Object) → IsReferred (referenced_in callers) o t → object_at heap o ≡ Some object → (object.out ≡ false → OneAwaits callers → ⊥) → suc object.cell.home.item ≤ height (below_callers callers)
referred_so heap implicit body [] waits low o t object is found strict = absurd is
referred_so heap implicit body (w ∷ ws) waits low o t object is found strict =
    lower_or_here heap w ws low.1 o t object found (λ back around. strict back (inr around)) (waits_roomed waits.0)
    (λ before. referred_so heap w.implicit w.program ws waits.1 low.3 o t object before found (λ back around. strict back (inr around))) (referred_either w.referenced (referenced_in ws) o t is)

-- Where its words are out.
is_strict : (object : Object) (Around : Type 0) → object.out ≡ true → object.out ≡ false → Around → ⊥
is_strict object Around out back around = cc (out, back)

low_at : (heap : List Object) (implicit : Implicit) (body : ProgramForm) (callers : List Caller) → AllWait implicit body callers → LieBelow heap callers → (d x : ℕ) (o : Id) (object : Object) → IsRelied (outer_hold (slice_get (outer_in callers) d) x) → outer_value (slice_get (outer_in callers) d) x ≡ Names o → object_at heap o ≡ Some object → object.out ≡ true → suc object.cell.home.item ≤ height (below_callers callers)
low_at heap implicit body callers waits low d x o object relied names found out = low_so heap implicit body callers waits low d x o object relied names found (is_strict object (OneAwaits callers) out)

referred_low : (heap : List Object) (implicit : Implicit) (body : ProgramForm) (callers : List Caller) → AllWait implicit body callers → LieBelow heap callers → (o : Id) (t : ℕ) (object : Object) → IsReferred (referenced_in callers) o t → object_at heap o ≡ Some object → object.out ≡ true → suc object.cell.home.item ≤ height (below_callers callers)
referred_low heap implicit body callers waits low o t object is found out = referred_so heap implicit body callers waits low o t object is found (is_strict object (OneAwaits callers) out)

-- Where no caller waits for an operation.
pub low_strict : (heap : List Object) (implicit : Implicit) (body : ProgramForm) (callers : List Caller) → AllWait implicit body callers → LieBelow heap callers → (OneAwaits callers → ⊥) → (d x : ℕ) (o : Id) (object : Object) → IsRelied (outer_hold (slice_get (outer_in callers) d) x) → outer_value (slice_get (outer_in callers) d) x ≡ Names o → object_at heap o ≡ Some object → suc object.cell.home.item ≤ height (below_callers callers)
low_strict heap implicit body callers waits low none d x o object relied names found = low_so heap implicit body callers waits low d x o object relied names found (λ back awaits. none awaits)

pub referred_strict : (heap : List Object) (implicit : Implicit) (body : ProgramForm) (callers : List Caller) → AllWait implicit body callers → LieBelow heap callers → (OneAwaits callers → ⊥) → (o : Id) (t : ℕ) (object : Object) → IsReferred (referenced_in callers) o t → object_at heap o ≡ Some object → suc object.cell.home.item ≤ height (below_callers callers)
referred_strict heap implicit body callers waits low none o t object is found = referred_so heap implicit body callers waits low o t object is found (λ back awaits. none awaits)

-- What is under way in a caller lies there, too.
pub either_one : (us vs : List Id) (o : Id) → IsUnder (us ++ vs) o → IsUnder us o ⊎ IsUnder vs o
either_one [] vs o is = inr is
either_one (u ∷ us) vs o (inl same) = inl (inl same)
either_one (u ∷ us) vs o (inr is) = elim (either_one us vs o is) [ inl first ↦ inl (inr first) | inr later ↦ inr later ]

under_or_here : (heap : List Object) (w : Caller) (ws : List Caller) → ((o : Id) → IsUnder w.under o → (object : Object) × (object_at heap o ≡ Some object) × (suc object.cell.home.item ≤ height w.masters)) → (o : Id) (object : Object) → object_at heap o ≡ Some object → Roomed (below_callers ws) w.masters w.rooms → (IsUnder (under_in ws) o → suc object.cell.home.item ≤ height (below_callers ws)) → IsUnder w.under o ⊎ IsUnder (under_in ws) o → suc object.cell.home.item ≤ height w.masters
under_or_here heap w ws low o object found roomed before (inl this) =
    let lies = low o this in
    let same : lies.0 ≡ object = some_same lies.0 object (sym lies.1 ∙ found) in
    rw (← same) lies.2
  where
    some_same : (x y : Object) → Some x ≡ Some y → x ≡ y
    some_same x y e = cc e
under_or_here heap w ws low o object found roomed before (inr there) =
    let lower = before there in
    let high = roomed_high (below_callers ws) w.masters w.rooms roomed in
    omega (arith, lower, high)

under_low : (heap : List Object) (implicit : Implicit) (body : ProgramForm) (callers : List Caller) → AllWait implicit body callers → LieBelow heap callers → (o : Id) (object : Object) → IsUnder (under_in callers) o → object_at heap o ≡ Some object → suc object.cell.home.item ≤ height (below_callers callers)
under_low heap implicit body [] waits low o object is found = absurd is
under_low heap implicit body (w ∷ ws) waits low o object is found =
    under_or_here heap w ws low.2 o object found (waits_roomed waits.0) (λ before. under_low heap w.implicit w.program ws waits.1 low.3 o object before found) (either_one w.under (under_in ws) o is)

-- So none of it, if its words are out, is an item of a master that a body is to leave.
module _ (known : Known) (heap : List Object) (waits : AllWait known.implicit known.program known.callers) (low : LieBelow heap known.callers) where
  below_by : (mode : Mode) (k : Control) (rooms : Rooms) (holds : Holds) (ms : List Master) → Counted (items_of ms) → Roomed (below known) ms rooms → RunsOn known (Leaves mode ∷ k) rooms holds → NamedBelow (outers known) heap ms
  below_by mode k [] holds ms counted r runs = absurd runs
  below_by mode k (gone ∷ rooms) holds [] counted r runs = absurd r
  below_by mode k (gone ∷ rooms) holds (m ∷ ms) counted r runs = (
    (λ d x o object relied names found out inner.
        let lower = low_at heap known.implicit known.program known.callers waits low d x o object relied names found out in
        let high = roomed_high (below known) ms rooms r.1 in
        let above = inner_high m.items (items_of ms) object.cell.home.item counted inner in
        let count = height_is ms in
        omega (arith, lower, high, above, count)),
    (λ o t object refers found out inner.
        let lower = referred_low heap known.implicit known.program known.callers waits low o t object refers found out in
        let high = roomed_high (below known) ms rooms r.1 in
        let above = inner_high m.items (items_of ms) object.cell.home.item counted inner in
        let count = height_is ms in
        omega (arith, lower, high, above, count)),
    (λ o object is found out inner.
        let lower = under_low heap known.implicit known.program known.callers waits low o object is found in
        let high = roomed_high (below known) ms rooms r.1 in
        let above = inner_high m.items (items_of ms) object.cell.home.item counted inner in
        let count = height_is ms in
        omega (arith, lower, high, above, count)),
  )

  pub named_below : {places : List _} (mode : Mode) (k : Control) (ms : List Master) → Parting known heap places ms (RunsOn known (Leaves mode ∷ k)) → NamedBelow (outers known) heap ms
  named_below mode k ms p = below_by mode k p.rooms p.holds ms p.stored.counted p.roomed p.rest
