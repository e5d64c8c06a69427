-- A component is taken away from what the code holds.

use Rattle.std.proofs.Common.{◌≡◌, ℕ, zero, suc, ◌+◌, ◌-◌, ◌<◌, ◌≤◌, List, [], ◌∷◌, ◌++◌, length, get_or, refl, sym, ap, ◌∙◌, subst, arith, take, drop, reverse}
use Rattle.std.specs.Prelude.{Option, Some, None}
use Rattle.std.specs.List.{remove, slice_get, sum_by}
use Rattle.std.proofs.lemmas.List.{length-take, length-reverse}
use Rattle.std.proofs.lemmas.List.Edits.{length-remove}
use Rattle.std.proofs.lemmas.List.Sums.{sum_by-cons, sum_by_push}
use Rattle.std.proofs.lemmas.List.Sorted.{IsPermutation-reverse, sum_by-IsPermutation}
use Rattle.ada_parts.specs.declared.tasks.Component.{Component}
use Rattle.ada_parts.specs.declared.tasks.Direction.{Direction}
use Rattle.ada_parts.specs.declared.tasks.Next.{Next}
use Rattle.ada_parts.specs.declared.tasks.Next.TheVariants.{Done, Pick, Perform}
use Rattle.ada_parts.specs.declared.tasks.Step.{Step}
use Rattle.ada_parts.specs.declared.tasks.Step.TheVariants.{Call, Treat}
use Rattle.ada_parts.specs.Shape.{Shape}
use Rattle.ada_parts.specs.Task.{Task, performs, treats, treatment_of, next, opened, opened_if, taken, without, open_at, IsOpen}
use Rattle.ada_parts.specs.View.{size_of, tasks_of, left_in}
use Rattle.ada_parts.proofs.Facts.{reverse_push}
use Rattle.ada_parts.proofs.Held.{remove_reversed, get_reversed, remove_take, drop_remove, get_take, treatment_full}

-- The next step treats components, and this one is among them.
pub record Offers (steps : List Step) (cs : List Component) (i : ℕ) : Type 0 where
  pub others : ℕ
  pub behind : List Step
  pub is : steps ≡ Treat others ∷ behind
  pub among : i < suc others
  pub held : i < length cs

pub offers : (steps : List Step) (cs : List Component) (i : ℕ) → IsOpen (tasks_of steps cs) i → Offers steps cs i
offers [] cs i h = absurd h
offers (Call of part ∷ steps) cs i h = absurd h
offers (Treat others ∷ steps) cs i h =
    let n = length-take (others + 1) cs in
    record {
      others = others;
      behind = steps;
      is = refl;
      among = omega (arith, n, h);
      held = omega (arith, n, h);
    }

-- There are as many components as what is left offers.
pub held_open : (steps : List Step) (cs : List Component) (i : ℕ) → IsOpen (left_in steps cs) i → i < length cs
held_open steps cs i h = let n = length-reverse cs in let o = (offers (reverse steps) (reverse cs) i h).held in omega (arith, n, o)

-- The component at a place from the end is the one that is open.
pub open_held : (steps : List Step) (cs : List Component) (at i : ℕ) (d : Component) → at + 1 + i ≡ length cs → IsOpen (left_in steps cs) i → open_at (left_in steps cs) i ≡ Some (get_or cs at d)
open_held steps cs at i d n h =
    let o = offers (reverse steps) (reverse cs) i h in
    ap (λ (x : List Step). open_at (tasks_of x (reverse cs)) i) o.is
    ∙ get_take (o.others + 1) i (reverse cs) (let b = o.among in omega (arith, b))
    ∙ get_reversed cs at i d n

-- The steps behind a call, and behind the treatment of one component.
abbrev pub rest_steps : List Step → Option Step → List Step
rest_steps before None = before
rest_steps before (Some (Call of part)) = before
rest_steps before (Some (Treat zero)) = before
rest_steps before (Some (Treat (suc others))) = before ++ Treat others ∷ []

abbrev first_step : List Step → Option Step
first_step [] = None
first_step (s ∷ steps) = Some s

abbrev behind_first : List Step → List Step
behind_first [] = []
behind_first (s ∷ steps) = steps

-- What is popped is the next step.
popped_is : (steps before : List Step) (s : Step) (cs : List Component) (i : ℕ) (o : Offers (reverse steps) cs i) → steps ≡ before ++ s ∷ [] → (Some s ≡ Some (Treat o.others)) × (reverse before ≡ o.behind)
popped_is steps before s cs i o e =
    let both : s ∷ reverse before ≡ Treat o.others ∷ o.behind = sym (reverse_push before s) ∙ sym (ap reverse e) ∙ o.is in
    (ap first_step both, ap behind_first both)

rest_go : (others : ℕ) (before behind : List Step) (rc left : List Component) (i : ℕ) → reverse before ≡ behind → left ≡ remove rc i → i < suc others → i < length rc → others < length rc → tasks_of (reverse (rest_steps before (Some (Treat others)))) left ≡ treatment_of (remove (take (others + 1) rc) i) ++ tasks_of behind (drop (others + 1) rc)
rest_go zero before behind rc left i e f among held all =
    ap (λ (x : List Step). tasks_of x left) e
    ∙ ap (tasks_of behind) (f ∙ drop_remove 0 i rc among held)
    ∙ ap (λ (x : List Component). treatment_of x ++ tasks_of behind (drop 1 rc)) (sym (remove_take 0 i rc among held))
rest_go (suc o) before behind rc left i e f among held all =
    let n = length-remove rc i held in
    let m = length-take (suc o) (remove rc i) in
    let one : o + 1 ≡ suc o = omega arith in
    let two : suc o + 1 ≡ suc (suc o) = omega arith in
    ap (λ (x : List Step). tasks_of x left) (reverse_push before (Treat o))
    ∙ ap (λ (x : List Step). treats (take (o + 1) left) ∷ tasks_of x (drop (o + 1) left)) e
    ∙ ap (λ (x : List Component). treats (take (o + 1) x) ∷ tasks_of behind (drop (o + 1) x)) f
    ∙ ap (λ (n : ℕ). treats (take n (remove rc i)) ∷ tasks_of behind (drop n (remove rc i))) one
    ∙ ap (λ (x : List Task). x ++ tasks_of behind (drop (suc o) (remove rc i))) (sym (treatment_full (take (suc o) (remove rc i)) (omega (arith, n, m, all))))
    ∙ ap (λ (x : List Component). treatment_of (take (suc o) (remove rc i)) ++ tasks_of behind x) (drop_remove (suc o) i rc among held)
    ∙ ap (λ (x : List Component). treatment_of x ++ tasks_of behind (drop (suc (suc o)) rc)) (sym (remove_take (suc o) i rc among held))
    ∙ ap (λ (n : ℕ). treatment_of (remove (take n rc) i) ++ tasks_of behind (drop n rc)) (sym two)

rest_size : (others : ℕ) (before : List Step) → sum_by size_of (rest_steps before (Some (Treat others))) ≡ sum_by size_of before + others
rest_size zero before = omega arith
rest_size (suc o) before = sum_by_push size_of before (Treat o) ∙ omega arith

abbrev step_or : Step → Option Step → Step
step_or d None = d
step_or d (Some s) = s

-- What the code holds once a component is taken away is what is left beside it.
pub record Away (steps before : List Step) (s : Step) (cs after : List Component) (i : ℕ) : Type 0 where
  pub left : left_in (rest_steps before (Some s)) after ≡ without (left_in steps cs) i
  pub sizes : sum_by size_of (rest_steps before (Some s)) ≡ length after

pub away : (steps before : List Step) (s : Step) (cs : List Component) (at i : ℕ) (d : Component) → IsOpen (left_in steps cs) i → sum_by size_of steps ≡ length cs → steps ≡ before ++ s ∷ [] → at + 1 + i ≡ length cs → Away steps before s cs (remove cs at) i
away steps before s cs at i d h sizes e n =
    let o = offers (reverse steps) (reverse cs) i h in
    let p = popped_is steps before s (reverse cs) i o e in
    let treat : s ≡ Treat o.others = ap (λ (x : Option Step). step_or s x) p.0 in
    let total : sum_by size_of steps ≡ sum_by size_of before + (o.others + 1) = ap (sum_by size_of) e ∙ sum_by_push size_of before s ∙ ap (λ (x : Step). sum_by size_of before + size_of x) treat in
    let r = length-reverse cs in
    let among = o.among in
    let gone = rest_go o.others before o.behind (reverse cs) (reverse (remove cs at)) i p.1 (remove_reversed cs at i d n) among o.held (omega (arith, total, sizes, r)) in
    let there : without (left_in steps cs) i ≡ treatment_of (remove (take (o.others + 1) (reverse cs)) i) ++ tasks_of o.behind (drop (o.others + 1) (reverse cs)) = ap (λ (x : List Step). without (tasks_of x (reverse cs)) i) o.is in
    let size = rest_size o.others before in
    let less = length-remove cs at (omega (arith, n)) in
    record {
      left = ap (λ (x : Step). left_in (rest_steps before (Some x)) (remove cs at)) treat ∙ gone ∙ sym there;
      sizes = ap (λ (x : Step). sum_by size_of (rest_steps before (Some x))) treat ∙ (omega (arith, size, less, total, sizes));
    }

abbrev some_or : {X : Type 0} → X → Option X → X
some_or d None = d
some_or d (Some x) = x

-- The last element of a list is the first from its end.
pub get_is : {X : Type 0} (xs : List X) (n : ℕ) (x d : X) → slice_get xs n ≡ Some x → get_or xs n d ≡ x
get_is [] n x d e = absurd (cc e)
get_is (y ∷ ys) zero x d e = ap (some_or d) e
get_is (y ∷ ys) (suc n) x d e = get_is ys n x d e

pub last_first : {X : Type 0} (xs : List X) (x : X) → Some x ≡ slice_get xs (length xs - 1) → slice_get (reverse xs) 0 ≡ Some x
last_first [] x e = absurd (cc e)
last_first {X} (y ∷ ys) x e =
    get_reversed (y ∷ ys) (length (y ∷ ys) - 1) 0 x (omega arith)
    ∙ ap (λ (z : X). Some z) (get_is (y ∷ ys) (length (y ∷ ys) - 1) x x (sym e))

abbrev others_of : Option Step → ℕ
others_of None = 0
others_of (Some (Call of part)) = 0
others_of (Some (Treat others)) = others

-- What comes next, where the next step treats components.
next_go : (steps : List Step) (cs : List Component) (others : ℕ) → slice_get steps 0 ≡ Some (Treat others) → sum_by size_of steps ≡ length cs → next (tasks_of steps cs) ≡ Pick (others + 1)
next_go [] cs others e n = absurd (cc e)
next_go (Call of part ∷ steps) cs others e n = absurd (cc e)
next_go (Treat o ∷ steps) cs others e n =
    let s = sum_by-cons size_of (Treat o) steps in
    let same = ap others_of e in
    let l = length-take (o + 1) cs in
    let count : length (take (o + 1) cs) ≡ others + 1 = omega (arith, s, same, l, n) in
    ap (λ (k : ℕ). Pick k) count

pub next_treat : (steps : List Step) (cs : List Component) (others : ℕ) → Some (Treat others) ≡ slice_get steps (length steps - 1) → sum_by size_of steps ≡ length cs → next (left_in steps cs) ≡ Pick (others + 1)
next_treat steps cs others e n =
    let m = sum_by-IsPermutation size_of steps (reverse steps) (IsPermutation-reverse steps) in
    let l = length-reverse cs in
    next_go (reverse steps) (reverse cs) others (last_first steps (Treat others) e) (omega (arith, m, l, n))

-- The same of what is left, whatever holds it.
pub open_within : (steps : List Step) (cs : List Component) (left : List Task) (i : ℕ) → left_in steps cs ≡ left → IsOpen left i → i < length cs
open_within steps cs left i e h = held_open steps cs i (subst (λ (x : List Task). IsOpen x i) (sym e) h)

pub open_read : (steps : List Step) (cs : List Component) (left : List Task) (i len : ℕ) (c : Component) → left_in steps cs ≡ left → IsOpen left i → len ≡ length cs → c ≡ get_or cs (len - 1 - i) c → open_at left i ≡ Some c
open_read steps cs left i len c e h n is =
    let opens = subst (λ (x : List Task). IsOpen x i) (sym e) h in
    let lt = held_open steps cs i opens in
    ap (λ (x : List Task). open_at x i) (sym e)
    ∙ open_held steps cs (len - 1 - i) i c (omega (arith, n, lt)) opens
    ∙ ap (λ (x : Component). Some x) (sym is)

-- What is put in the place of the component that is taken.
pub taken_is : (shapes : List Shape) (direction : Direction) (left after : List Task) (i : ℕ) (c : Component) → open_at left i ≡ Some c → after ≡ opened shapes direction c.of c.first ++ without left i → after ≡ taken shapes direction left i
taken_is shapes direction left after i c is e =
    e ∙ ap (λ (x : Option Component). opened_if shapes direction x ++ without left i) (sym is)

-- Where no component of this number is open, nothing is taken.
get_behind : {X : Type 0} (xs : List X) (i : ℕ) → length xs ≤ i → slice_get xs i ≡ None
get_behind [] i le = refl
get_behind (x ∷ xs) zero le = absurd (omega (arith, le))
get_behind (x ∷ xs) (suc i) le = get_behind xs i (omega (arith, le))

remove_behind : {X : Type 0} (xs : List X) (i : ℕ) → length xs ≤ i → remove xs i ≡ xs
remove_behind [] zero le = refl
remove_behind [] (suc i) le = refl
remove_behind (x ∷ xs) zero le = absurd (omega (arith, le))
remove_behind {X} (x ∷ xs) (suc i) le = ap (λ (ys : List X). x ∷ ys) (remove_behind xs i (omega (arith, le)))

count_in : Next → ℕ
count_in Done = 0
count_in (Pick count) = count
count_in (Perform of part) = 0

pub taken_none : (shapes : List Shape) (direction : Direction) (left : List Task) (i count : ℕ) → next left ≡ Pick count → 0 < count → count ≤ i → left ≡ taken shapes direction left i
unfolding count_in
taken_none shapes direction [] i count e some le = absurd (cc e)
taken_none shapes direction (performs of part ∷ behind) i count e some le = absurd (cc e)
taken_none shapes direction (treats cs ∷ behind) i count e some le =
    let n : length cs ≡ count = ap count_in e in
    let below : length cs ≤ i = omega (arith, n, le) in
    ap (λ (ts : List Task). ts ++ behind) (sym (treatment_full cs (omega (arith, n, some))))
    ∙ ap (λ (x : List Component). treatment_of x ++ behind) (sym (remove_behind cs i below))
    ∙ ap (λ (x : Option Component). opened_if shapes direction x ++ (treatment_of (remove cs i) ++ behind)) (sym (get_behind cs i below))

-- There are as many tasks as steps.
tasks_length : (steps : List Step) (cs : List Component) → length (tasks_of steps cs) ≡ length steps
tasks_length [] cs = refl
tasks_length (Call of part ∷ steps) cs = ap suc (tasks_length steps cs)
tasks_length (Treat others ∷ steps) cs = ap suc (tasks_length steps (drop (others + 1) cs))

pub left_length : (steps : List Step) (cs : List Component) → length (left_in steps cs) ≡ length steps
left_length steps cs = tasks_length (reverse steps) (reverse cs) ∙ length-reverse steps
