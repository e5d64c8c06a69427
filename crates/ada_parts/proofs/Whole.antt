-- A component is treated whole: a run through tasks in front of others is a run through each.

use Rattle.std.proofs.Common.{◌≡◌, ℕ, suc, ◌+◌, ◌<◌, List, [], ◌∷◌, ◌++◌, length, refl, sym, ap, ◌∙◌, subst, arith, take, append_assoc}
use Rattle.std.specs.Prelude.{Some}
use Rattle.std.specs.List.{remove, slice_get}
use Rattle.std.specs.List.Sorted.{IsPermutation}
use Rattle.std.proofs.lemmas.List.{append-nil, take_at}
use Rattle.std.proofs.lemmas.List.Sorted.{IsPermutation-trans, length_permutation}
use Rattle.ada_parts.specs.declared.tasks.Component.{Component}
use Rattle.ada_parts.specs.declared.tasks.Direction.{Direction}
use Rattle.ada_parts.specs.declared.tasks.Next.TheVariants.{Perform}
use Rattle.ada_parts.specs.Shape.{Shape, IsTable, parts_of}
use Rattle.ada_parts.specs.Part.{Part, parts_at}
use Rattle.ada_parts.specs.Task.{Task, performs, treats, treatment_of, opened, opened_if, next, without, open_at, taken, performed, IsOpen}
use Rattle.ada_parts.specs.Law.{Run, here, picks, calls, parts_left}
use Rattle.ada_parts.proofs.Held.{of_open}
use Rattle.ada_parts.proofs.Numbers.{count_parts}
use Rattle.ada_parts.proofs.Runs.{taken_open, Known, known_closed, known_opened, kept, left_opened, each_once}

-- A run to the end.
pub record Runs (shapes : List Shape) (d : Direction) (left : List Task) (done : List Part) : Type 0 where
  pub steps : ℕ
  pub run : Run shapes d left steps done []

open_append : (t : Task) (a b : List Task) (i : ℕ) → IsOpen (t ∷ (a ++ b)) i → IsOpen (t ∷ a) i
open_append (treats cs) a b i h = h
open_append (performs of part) a b i h = absurd h

taken_append : (shapes : List Shape) (d : Direction) (t : Task) (a b : List Task) (i : ℕ) → IsOpen (t ∷ (a ++ b)) i → taken shapes d (t ∷ (a ++ b)) i ≡ taken shapes d (t ∷ a) i ++ b
taken_append shapes d (performs of part) a b i h = absurd h
taken_append shapes d (treats cs) a b i h =
    let front = opened_if shapes d (slice_get cs i) in
    let rest = treatment_of (remove cs i) in
    ap (λ (ts : List Task). front ++ ts) (sym (append_assoc rest a b)) ∙ sym (append_assoc front (rest ++ a) b)

next_append : (t : Task) (a b : List Task) → next (t ∷ (a ++ b)) ≡ next (t ∷ a)
next_append (treats cs) a b = refl
next_append (performs of part) a b = refl

called_append : (t : Task) (a b : List Task) (of part : ℕ) → next (t ∷ (a ++ b)) ≡ Perform of part → performed (t ∷ (a ++ b)) ≡ performed (t ∷ a) ++ b
called_append (treats cs) a b of part e = absurd (cc e)
called_append (performs u q) a b of part e = refl

-- A run through tasks in front of others.
pub record Split (shapes : List Shape) (d : Direction) (a b : List Task) (steps : ℕ) (done : List Part) : Type 0 where
  pub front_steps : ℕ
  pub later_steps : ℕ
  pub front : List Part
  pub later : List Part
  pub front_run : Run shapes d a front_steps front []
  pub later_run : Run shapes d b later_steps later []
  pub is : done ≡ front ++ later
  pub count : steps ≡ front_steps + later_steps

split_picked : (shapes : List Shape) (d : Direction) (a b : List Task) (i steps : ℕ) (done : List Part) → IsOpen a i → Split shapes d (taken shapes d a i) b steps done → Split shapes d a b (suc steps) done
split_picked shapes d a b i steps done h s = record {
  front_steps = suc s.front_steps;
  later_steps = s.later_steps;
  front = s.front;
  later = s.later;
  front_run = picks i h s.front_run;
  later_run = s.later_run;
  is = s.is;
  count = (let c = s.count in omega (arith, c));
}

split_called : (shapes : List Shape) (d : Direction) (a b : List Task) (of part steps : ℕ) (done : List Part) → next a ≡ Perform of part → Split shapes d (performed a) b steps done → Split shapes d a b (suc steps) (record { of = of; number = part } ∷ done)
split_called shapes d a b of part steps done e s = record {
  front_steps = suc s.front_steps;
  later_steps = s.later_steps;
  front = record { of = of; number = part } ∷ s.front;
  later = s.later;
  front_run = calls of part e s.front_run;
  later_run = s.later_run;
  is = ap (λ (ps : List Part). record { of = of; number = part } ∷ ps) s.is;
  count = (let c = s.count in omega (arith, c));
}

split_none : (shapes : List Shape) (d : Direction) (left b : List Task) (steps : ℕ) (done : List Part) → left ≡ b → Run shapes d left steps done [] → Split shapes d [] b steps done
split_none shapes d left b steps done e run = record {
  front_steps = 0;
  later_steps = steps;
  front = [];
  later = done;
  front_run = here;
  later_run = subst (λ (ts : List Task). Run shapes d ts steps done []) e run;
  is = refl;
  count = omega arith;
}

to_end : (shapes : List Shape) (d : Direction) {left last : List Task} {steps : ℕ} {done : List Part} → last ≡ [] → Run shapes d left steps done last → Run shapes d left steps done []
to_end shapes d {left} {steps} {done} end run = subst (λ (ts : List Task). Run shapes d left steps done ts) end run

pub split : (shapes : List Shape) (d : Direction) {left last : List Task} {steps : ℕ} {done : List Part} → Run shapes d left steps done last → (a b : List Task) → left ≡ a ++ b → last ≡ [] → Split shapes d a b steps done
split shapes d (here {left}) [] b e end = split_none shapes d left b 0 [] e (to_end shapes d end here)
split shapes d (here {left}) (t ∷ a) b e end = absurd (cc (sym end ∙ e))
split shapes d (picks {left} {steps} {calls = done} i h run) [] b e end = split_none shapes d left b (suc steps) done e (picks i h (to_end shapes d end run))
split shapes d (picks {left} {steps} {calls = done} i h run) (t ∷ a) b e end =
    let opens' = subst (λ (ts : List Task). IsOpen ts i) e h in
    split_picked shapes d (t ∷ a) b i steps done (open_append t a b i opens')
    (split shapes d run (taken shapes d (t ∷ a) i) b (ap (λ (ts : List Task). taken shapes d ts i) e ∙ taken_append shapes d t a b i opens') end)
split shapes d (calls {left} {steps} {later} of part n run) [] b e end =
    split_none shapes d left b (suc steps) (record { of = of; number = part } ∷ later) e (calls of part n (to_end shapes d end run))
split shapes d (calls {left} {steps} {later} of part n run) (t ∷ a) b e end =
    let due = ap next (sym e) ∙ n in
    split_called shapes d (t ∷ a) b of part steps later (sym (next_append t a b) ∙ due)
    (split shapes d run (performed (t ∷ a)) b (ap performed e ∙ called_append t a b of part due) end)

-- The calls from a pick begin with those of the component.
pub one_by_one : (shapes : List Shape) (d : Direction) (of first : ℕ) → IsTable shapes → of < length shapes → {last : List Task} {steps : ℕ} {done : List Part} → Run shapes d (opened shapes d of first) steps done last → (i more : ℕ) (c : Component) (later : List Part) → open_at last i ≡ Some c → Run shapes d (taken shapes d last i) more later [] → IsPermutation (parts_at shapes c.of c.first) (take (parts_of shapes c.of) later)
one_by_one shapes d of first table lt {last} run i more c later e then =
    let known = kept shapes d (Known shapes) (known_closed shapes table) run (known_opened shapes d of first table lt) in
    let here' = of_open (Known shapes) last i c known e in
    let s = split shapes d then (opened shapes d c.of c.first) (without last i) (taken_open shapes d last i c e) refl in
    let all = subst (IsPermutation (parts_left shapes (opened shapes d c.of c.first))) (append-nil s.front) (each_once shapes d table s.front_run (known_opened shapes d c.of c.first table here')) in
    let mine = IsPermutation-trans (parts_at shapes c.of c.first) (parts_left shapes (opened shapes d c.of c.first)) s.front (left_opened shapes d c.of c.first table here') all in
    let n : length s.front ≡ parts_of shapes c.of = length_permutation (parts_at shapes c.of c.first) s.front mine ∙ count_parts shapes c.of c.first in
    subst (IsPermutation (parts_at shapes c.of c.first)) (sym (ap (take (parts_of shapes c.of)) s.is ∙ take_at s.front s.later (parts_of shapes c.of) n)) mine
