use Rattle.std.proofs.Common.{◌≡◌, ◌+◌, ◌-◌, ◌<◌, ◌≤◌, ℕ, List, [], ◌∷◌, ◌++◌, length, sym, ap, ◌∙◌, get_or, drop, reverse, arith, rules, append_assoc}
use Rattle.std.specs.Prelude.{is_ok}
use Rattle.std.specs.List.{sum_by}
use Rattle.std.proofs.lemmas.List.{drop_more}
use Rattle.std.proofs.lemmas.List.Sums.{sum_by-cons, sum_by-take-drop}
use Rattle.ada_parts.specs.declared.tasks.Component.{Component}
use Rattle.ada_parts.specs.Shape.{parts_of}
use Rattle.ada_parts.specs.Part.{in_order}
use Rattle.ada_parts.proofs.Facts.{reverse_cons, pushed}
use Rattle.ada_parts.proofs.put.put_all.Goals as goal

-- The types from one on: the first of them, and those behind it.
from_one : (ts : List ℕ) (i : ℕ) → 0 < i → i ≤ length ts → drop (i - 1) ts ≡ get_or ts (i - 1) 0 ∷ drop i ts
from_one ts i some le = drop_more ts (i - 1) 0 (omega (arith, some, le)) ∙ ap (λ (n : ℕ). get_or ts (i - 1) 0 ∷ drop n ts) (let e : i - 1 + 1 ≡ i = omega (arith, some) in e)

sum_from : (f : ℕ → ℕ) (ts : List ℕ) (i : ℕ) → 0 < i → i ≤ length ts → sum_by f (drop (i - 1) ts) ≡ f (get_or ts (i - 1) 0) + sum_by f (drop i ts)
sum_from f ts i some le = ap (sum_by f) (from_one ts i some le) ∙ sum_by-cons f (get_or ts (i - 1) 0) (drop i ts)

below : (f : ℕ → ℕ) (ts : List ℕ) (i first p end : ℕ) → 0 < i → i ≤ length ts → first ≡ end - sum_by f (drop i ts) → p ≡ f (get_or ts (i - 1) 0) → sum_by f ts ≤ end → p ≤ first
below f ts i first p end some le e is most =
    let s = sum_from f ts i some le in
    let t = sum_by-take-drop f ts (i - 1) in
    omega (arith, s, t, e, is, most)

counted : (f : ℕ → ℕ) (ts : List ℕ) (i : ℕ) → 0 < i → i ≤ length ts → f (get_or ts (i - 1) 0) ≤ sum_by f ts
counted f ts i some le =
    let s = sum_from f ts i some le in
    let t = sum_by-take-drop f ts (i - 1) in
    omega (arith, s, t)

pub count-first-requires : goal.count-first-requires
count-first-requires c =
    let le = counted (parts_of c.args.shapes.now) c.args.types.now c.loop-i.i (omega (arith, c.loop-i-test.true)) c.loop-i.invariant.within in
    omega (arith, le, c.requires.numbers)

pub overflow_sub-first : goal.overflow_sub-first
overflow_sub-first c =
    below (parts_of c.args.shapes.now) c.args.types.now c.loop-i.i c.loop-i.first c.count-first.result c.args.end
    (omega (arith, c.loop-i-test.true)) c.loop-i.invariant.within c.loop-i.invariant.numbers c.count-first.ensures c.requires.numbers

put_one : (f : ℕ → ℕ) (ts : List ℕ) (i first p : ℕ) (before : List Component) → 0 < i → i ≤ length ts → p ≡ f (get_or ts (i - 1) 0) → p ≤ first → before ++ reverse (in_order f (drop i ts) first) ++ record { of = get_or ts (i - 1) 0; first = first - p } ∷ [] ≡ before ++ reverse (in_order f (drop (i - 1) ts) (first - p))
put_one f ts i first p before some le is below =
    let x : Component = record { of = get_or ts (i - 1) 0; first = first - p } in
    let e : first - p + f (get_or ts (i - 1) 0) ≡ first = omega (arith, is, below) in
    append_assoc before (reverse (in_order f (drop i ts) first)) (x ∷ [])
    ∙ ap (λ (cs : List Component). before ++ cs) (sym (reverse_cons x (in_order f (drop i ts) first)))
    ∙ ap (λ (q : ℕ). before ++ reverse (x ∷ in_order f (drop i ts) q)) (sym e)
    ∙ ap (λ (us : List ℕ). before ++ reverse (in_order f us (first - p))) (sym (from_one ts i some le))

pub loop-i-preserved : goal.loop-i-preserved
loop-i-preserved c =
    let f = parts_of c.args.shapes.now in
    let ts = c.args.types.now in
    let i = c.loop-i.i in
    let some : 0 < i = omega (arith, c.loop-i-test.true) in
    let le = c.loop-i.invariant.within in
    let s = sum_from f ts i some le in
    let p = c.count-first.result in
    let less = below f ts i c.loop-i.first p c.args.end some le c.loop-i.invariant.numbers c.count-first.ensures c.requires.numbers in
    let ok = c.push.ensures.succeeds (omega (arith, c.loop-i.invariant.room, some)) in
    let items = pushed (is_ok c.push.result) c.push.new.self.items (c.loop-i.components.items ++ record { of = get_or ts (i - 1) 0; first = c.loop-i.first - p } ∷ []) c.loop-i.components.items (search (rules, ok)) c.push.ensures.items in
    record {
      within = omega (arith, le);
      numbers = omega (arith, s, c.loop-i.invariant.numbers, c.count-first.ensures);
      put = items
          ∙ ap (λ (cs : List Component). cs ++ record { of = get_or ts (i - 1) 0; first = c.loop-i.first - p } ∷ []) c.loop-i.invariant.put
          ∙ put_one f ts i c.loop-i.first p c.args.components.now.items some le c.count-first.ensures less;
      room = omega (arith, c.push.ensures.upper_bound, c.push.ensures.capacity, c.loop-i.invariant.room, some);
    }
