-- For each order of an initialization, some picks in a finalization give the reverse order.

use Rattle.std.proofs.Common.{◌≡◌, ℕ, zero, suc, ◌<◌, ◌≤◌, Bool, true, false, List, [], ◌∷◌, ◌++◌, length, refl, sym, ap, ◌∙◌, subst, arith, reverse, append_assoc}
use Rattle.std.specs.Prelude.{Option, Some, if◌then◌else◌}
use Rattle.std.specs.List.{remove, slice_get}
use Rattle.std.proofs.lemmas.List.{append-nil, reverse-append}
use Rattle.std.proofs.lemmas.List.Edits.{length-remove}
use Rattle.ada_parts.specs.declared.tasks.Component.{Component}
use Rattle.ada_parts.specs.declared.tasks.Direction.{Direction}
use Rattle.ada_parts.specs.declared.tasks.Direction.TheVariants.{PartsFirst, WholeFirst}
use Rattle.ada_parts.specs.declared.tasks.Next.{Next}
use Rattle.ada_parts.specs.declared.tasks.Next.TheVariants.{Perform}
use Rattle.ada_parts.specs.Shape.{Shape, shape_of}
use Rattle.ada_parts.specs.Part.{Part, components_of, own_part}
use Rattle.ada_parts.specs.Task.{Task, performs, treats, treatment_of, operation_of, opened, opened_if, next, taken, performed, IsOpen}
use Rattle.ada_parts.specs.Law.{Run, here, picks, calls}
use Rattle.ada_parts.proofs.Runs.{part_next}
use Rattle.ada_parts.proofs.Whole.{Runs, Split, split}

-- One run behind another.
runs_then : (shapes : List Shape) (d : Direction) (a b : List Task) (later : List Part) {left last : List Task} {steps : ℕ} {done : List Part} → Run shapes d left steps done last → left ≡ a → last ≡ [] → Runs shapes d b later → Runs shapes d (a ++ b) (done ++ later)
runs_then shapes d a b later (here {left}) e end more = subst (λ (ts : List Task). Runs shapes d (ts ++ b) later) (sym end ∙ e) more
runs_then shapes d a b later (picks {left} {calls = done} i h run) e end more =
    let opens' = subst (λ (ts : List Task). IsOpen ts i) e h in
    picked a b i opens' (runs_then shapes d (taken shapes d a i) b later run (ap (λ (ts : List Task). taken shapes d ts i) e) end more)
  where
    picked : (a b : List Task) (i : ℕ) → IsOpen a i → Runs shapes d (taken shapes d a i ++ b) (done ++ later) → Runs shapes d (a ++ b) (done ++ later)
    picked [] b i h r = absurd h
    picked (performs of part ∷ a) b i h r = absurd h
    picked (treats cs ∷ a) b i h r =
        let front = opened_if shapes d (slice_get cs i) in
        let rest = treatment_of (remove cs i) in
        let same : (front ++ (rest ++ a)) ++ b ≡ front ++ (rest ++ (a ++ b)) = append_assoc front (rest ++ a) b ∙ ap (λ (ts : List Task). front ++ ts) (append_assoc rest a b) in
        record { steps = suc r.steps; run = picks i h (subst (λ (ts : List Task). Run shapes d ts r.steps (done ++ later) []) same r.run) }
runs_then shapes d a b later (calls {left} {later = done} of part n run) e end more =
    called a b (ap next (sym e) ∙ n) (runs_then shapes d (performed a) b later run (ap performed e) end more)
  where
    called : (a b : List Task) → next a ≡ Perform of part → Runs shapes d (performed a ++ b) (done ++ later) → Runs shapes d (a ++ b) (record { of = of; number = part } ∷ (done ++ later))
    called [] b n r = absurd (cc n)
    called (treats cs ∷ a) b n r = absurd (cc n)
    called (performs u q ∷ a) b n r = record { steps = suc r.steps; run = calls of part n r.run }

pub both_run : (shapes : List Shape) (d : Direction) (a b : List Task) (done later : List Part) → Runs shapes d a done → Runs shapes d b later → Runs shapes d (a ++ b) (done ++ later)
both_run shapes d a b done later x y = runs_then shapes d a b later x.run refl refl y

-- Two picks can change places.
record Swapped (cs : List Component) (c e : Component) (rest : List Component) : Type 0 where
  pub first : ℕ
  pub second : ℕ
  pub there : slice_get cs first ≡ Some e
  pub afterwards : slice_get (remove cs first) second ≡ Some c
  pub rest_is : remove (remove cs first) second ≡ rest

swapped : (cs : List Component) (i j : ℕ) (c e : Component) → slice_get cs i ≡ Some c → slice_get (remove cs i) j ≡ Some e → Swapped cs c e (remove (remove cs i) j)
swapped [] i j c e x y = absurd (cc x)
swapped (d ∷ cs) zero j c e x y = record { first = suc j; second = 0; there = y; afterwards = x; rest_is = refl }
swapped (d ∷ cs) (suc i) zero c e x y = record { first = 0; second = i; there = y; afterwards = x; rest_is = refl }
swapped (d ∷ cs) (suc i) (suc j) c e x y =
    let s = swapped cs i j c e x y in
    record {
      first = suc s.first;
      second = suc s.second;
      there = s.there;
      afterwards = s.afterwards;
      rest_is = ap (λ (xs : List Component). d ∷ xs) s.rest_is;
    }

got_within : (cs : List Component) (i : ℕ) (c : Component) → slice_get cs i ≡ Some c → i < length cs
got_within [] i c e = absurd (cc e)
got_within (d ∷ cs) zero c e = omega arith
got_within (d ∷ cs) (suc i) c e = let l = got_within cs i c e in omega (arith, l)

-- A pick from components that are treated.
pick : (shapes : List Shape) (d : Direction) (cs : List Component) (i : ℕ) (c : Component) (done later : List Part) → slice_get cs i ≡ Some c → Runs shapes d (opened shapes d c.of c.first) done → Runs shapes d (treatment_of (remove cs i)) later → Runs shapes d (treatment_of cs) (done ++ later)
pick shapes d [] i c done later e x y = absurd (cc e)
pick shapes d (k ∷ cs) i c done later e x y =
    let rest = treatment_of (remove (k ∷ cs) i) in
    let both = both_run shapes d (opened shapes d c.of c.first) rest done later x y in
    let same : opened shapes d c.of c.first ++ rest ≡ taken shapes d (treats (k ∷ cs) ∷ []) i =
    ap (λ (ts : List Task). opened shapes d c.of c.first ++ ts) (sym (append-nil rest))
    ∙ ap (λ (x : Option Component). opened_if shapes d x ++ (rest ++ [])) (sym e) in
    record { steps = suc both.steps; run = picks i (got_within (k ∷ cs) i c e) (subst (λ (ts : List Task). Run shapes d ts both.steps (done ++ later) []) same both.run) }

-- What a run through components picks first.
record Picked (shapes : List Shape) (d : Direction) (cs : List Component) (steps : ℕ) (done : List Part) : Type 0 where
  pub at : ℕ
  pub component : Component
  pub is : slice_get cs at ≡ Some component
  pub parts : Split shapes d (opened shapes d component.of component.first) (treatment_of (remove cs at)) steps done

get_some : (xs : List Component) (i : ℕ) → i < length xs → (x : Component) × (slice_get xs i ≡ Some x)
get_some [] i lt = absurd (omega (arith, lt))
get_some (x ∷ xs) zero lt = (x, refl)
get_some (x ∷ xs) (suc i) lt = get_some xs i (omega (arith, lt))

-- A run through components is at its end, or picks one.
abbrev Begins : (shapes : List Shape) (d : Direction) (cs : List Component) (steps : ℕ) (done : List Part) → Type 0
Begins shapes d [] steps done = done ≡ []
Begins shapes d (c ∷ cs) zero done = ⊥
Begins shapes d (c ∷ cs) (suc steps) done = Picked shapes d (c ∷ cs) steps done

begins : (shapes : List Shape) (d : Direction) (cs : List Component) {left last : List Task} {steps : ℕ} {done : List Part} → Run shapes d left steps done last → left ≡ treatment_of cs → last ≡ [] → Begins shapes d cs steps done
begins shapes d [] here e end = refl
begins shapes d [] (picks i h run) e end = absurd (subst (λ (ts : List Task). IsOpen ts i) e h)
begins shapes d [] (calls of part n run) e end = absurd (cc (sym n ∙ ap next e))
begins shapes d (c ∷ cs) here e end = absurd (cc (sym end ∙ e))
begins shapes d (c ∷ cs) (calls of part n run) e end = absurd (cc (sym n ∙ ap next e))
begins shapes d (c ∷ cs) (picks {left} i h run) e end =
    let got = get_some (c ∷ cs) i (subst (λ (ts : List Task). IsOpen ts i) e h) in
    let x = got.0 in
    record {
      at = i;
      component = x;
      is = got.1;
      parts = split shapes d run (opened shapes d x.of x.first) (treatment_of (remove (c ∷ cs) i))
          (ap (λ (ts : List Task). taken shapes d ts i) e
          ∙ ap (λ (o : Option Component). opened_if shapes d o ++ (treatment_of (remove (c ∷ cs) i) ++ [])) got.1
          ∙ ap (λ (ts : List Task). opened shapes d x.of x.first ++ ts) (append-nil (treatment_of (remove (c ∷ cs) i)))) end;
    }

-- A component that is not picked yet can be picked last.
picked_last : (shapes : List Shape) (d : Direction) (n : ℕ) (cs : List Component) (i : ℕ) (c : Component) (done later : List Part) → length cs ≡ n → slice_get cs i ≡ Some c → Runs shapes d (treatment_of (remove cs i)) done → Runs shapes d (opened shapes d c.of c.first) later → Runs shapes d (treatment_of cs) (done ++ later)
picked_last shapes d zero cs i c done later len e x y = absurd (let l = got_within cs i c e in omega (arith, l, len))
picked_last shapes d (suc n) cs i c done later len e x y =
    go (remove cs i) refl x.steps (begins shapes d (remove cs i) x.run refl refl)
    (λ ks j z w u more got there. picked_last shapes d n ks j c z w more got there u)
  where
    go : (rest : List Component) → rest ≡ remove cs i → (steps : ℕ) → Begins shapes d rest steps done → ((ks : List Component) (j : ℕ) (z w : List Part) → Runs shapes d (opened shapes d c.of c.first) w → length ks ≡ n → slice_get ks j ≡ Some c → Runs shapes d (treatment_of (remove ks j)) z → Runs shapes d (treatment_of ks) (z ++ w)) → Runs shapes d (treatment_of cs) (done ++ later)
    go [] is steps b again =
        let none = pick shapes d cs i c later [] e y (subst (λ (ks : List Component). Runs shapes d (treatment_of ks) []) is (record { steps = 0; run = here })) in
        subst (Runs shapes d (treatment_of cs)) (append-nil later ∙ ap (λ (ps : List Part). ps ++ later) (sym b)) none
    go (r ∷ rs) is zero b again = absurd b
    go (r ∷ rs) is (suc steps) b again =
        let s = swapped cs i b.at c b.component e (ap (λ (ks : List Component). slice_get ks b.at) (sym is) ∙ b.is) in
        let p = b.parts in
        let l = length-remove cs s.first (got_within cs s.first b.component s.there) in
        let behind = again (remove cs s.first) s.second p.later later y (omega (arith, l, len)) s.afterwards
        (record { steps = p.later_steps; run = subst (λ (ks : List Component). Run shapes d (treatment_of ks) p.later_steps p.later []) (ap (λ (ks : List Component). remove ks b.at) is ∙ sym s.rest_is) p.later_run }) in
        let all = pick shapes d cs s.first b.component p.front (p.later ++ later) s.there (record { steps = p.front_steps; run = p.front_run }) behind in
        subst (Runs shapes d (treatment_of cs)) (sym (append_assoc p.front p.later later) ∙ ap (λ (ps : List Part). ps ++ later) (sym p.is)) all

-- A run through the operation of a record itself.
own_go : (shapes : List Shape) (d : Direction) (b : Bool) (of first : ℕ) {left last : List Task} {steps : ℕ} {done : List Part} → Run shapes d left steps done last → left ≡ (if b then performs of first ∷ [] else []) → last ≡ [] → done ≡ (if b then record { of = of; number = first } ∷ [] else [])
own_go shapes d false of first run e end = begins shapes d [] run e end
own_go shapes d true of first here e end = absurd (cc (sym end ∙ e))
own_go shapes d true of first (picks i h run) e end = absurd (subst (λ (ts : List Task). IsOpen ts i) e h)
own_go shapes d true of first (calls {later} u part n run) e end =
    let none = begins shapes d [] run (ap performed e) end in
    ap (λ (ps : List Part). record { of = u; number = part } ∷ ps) none
    ∙ ap (λ (x : Next). part_next x ∷ []) (sym n ∙ ap next e)

own_run : (shapes : List Shape) (d : Direction) (s : Shape) (of first : ℕ) {left last : List Task} {steps : ℕ} {done : List Part} → Run shapes d left steps done last → left ≡ operation_of s of first → last ≡ [] → done ≡ own_part s of first
own_run shapes d s of first run e end = own_go shapes d s.controlled of first run e end

own_reversed : (s : Shape) (of first : ℕ) → reverse (own_part s of first) ≡ own_part s of first
own_reversed s of first = go s.controlled
  where
    go : (b : Bool) → reverse {A = Part} (if b then record { of = of; number = first } ∷ [] else []) ≡ (if b then record { of = of; number = first } ∷ [] else [])
    go true = refl
    go false = refl

own_runs : (shapes : List Shape) (d : Direction) (s : Shape) (of first : ℕ) → Runs shapes d (operation_of s of first) (own_part s of first)
own_runs shapes d s of first = go s.controlled
  where
    go : (b : Bool) → Runs shapes d (if b then performs of first ∷ [] else []) (if b then record { of = of; number = first } ∷ [] else [])
    go true = record { steps = 1; run = calls of first refl here }
    go false = record { steps = 0; run = here }

-- Behind a bound on the steps, a record and its components.
Reversed : List Shape → ℕ → Type 0
Reversed shapes n = (of first steps : ℕ) (done : List Part) → steps < n → Run shapes PartsFirst (opened shapes PartsFirst of first) steps done [] → Runs shapes WholeFirst (opened shapes WholeFirst of first) (reverse done)

reversed_components : (shapes : List Shape) (n : ℕ) → Reversed shapes n → (m : ℕ) (cs : List Component) (steps : ℕ) (done : List Part) → length cs ≡ m → steps ≤ n → Run shapes PartsFirst (treatment_of cs) steps done [] → Runs shapes WholeFirst (treatment_of cs) (reverse done)
unfolding Reversed
reversed_components shapes n again m [] steps done len le run =
    subst (λ (ps : List Part). Runs shapes WholeFirst [] (reverse ps)) (sym (begins shapes PartsFirst [] run refl refl)) (record { steps = 0; run = here })
reversed_components shapes n again m (k ∷ cs) zero done len le run = absurd (begins shapes PartsFirst (k ∷ cs) run refl refl)
reversed_components shapes n again zero (k ∷ cs) (suc steps) done len le run = absurd (omega (arith, len))
reversed_components shapes n again (suc m) (k ∷ cs) (suc steps) done len le run =
    let b = begins shapes PartsFirst (k ∷ cs) run refl refl in
    let p = b.parts in
    let count = p.count in
    let l = length-remove (k ∷ cs) b.at (got_within (k ∷ cs) b.at b.component b.is) in
    let mine = again b.component.of b.component.first p.front_steps p.front (omega (arith, count, le)) p.front_run in
    let rest = reversed_components shapes n again m (remove (k ∷ cs) b.at) p.later_steps p.later (omega (arith, l, len)) (omega (arith, count, le)) p.later_run in
    subst (Runs shapes WholeFirst (treatment_of (k ∷ cs))) (sym (ap reverse p.is ∙ reverse-append p.front p.later))
    (picked_last shapes WholeFirst (suc m) (k ∷ cs) b.at b.component (reverse p.later) (reverse p.front) len b.is rest mine)

reversed : (shapes : List Shape) (n : ℕ) → Reversed shapes n
unfolding Reversed
reversed shapes zero of first steps done lt run = absurd (omega (arith, lt))
reversed shapes (suc n) of first steps done lt run =
    let s = shape_of shapes of in
    let cs = components_of shapes of first in
    let p = split shapes PartsFirst run (treatment_of cs) (operation_of s of first) refl refl in
    let count = p.count in
    let rest = reversed_components shapes n (reversed shapes n) (length cs) cs p.front_steps p.front refl (omega (arith, count, lt)) p.front_run in
    let own : p.later ≡ own_part s of first = own_run shapes PartsFirst s of first p.later_run refl refl in
    let is : own_part s of first ++ reverse p.front ≡ reverse done =
    sym (ap reverse p.is ∙ reverse-append p.front p.later ∙ ap (λ (ps : List Part). reverse ps ++ reverse p.front) own ∙ ap (λ (ps : List Part). ps ++ reverse p.front) (own_reversed s of first)) in
    subst (Runs shapes WholeFirst (opened shapes WholeFirst of first)) is (both_run shapes WholeFirst (operation_of s of first) (treatment_of cs) (own_part s of first) (reverse p.front) (own_runs shapes WholeFirst s of first) rest)

pub can_be_reversed : (shapes : List Shape) (of first steps : ℕ) (done : List Part) → Run shapes PartsFirst (opened shapes PartsFirst of first) steps done [] → (more : ℕ) × Run shapes WholeFirst (opened shapes WholeFirst of first) more (reverse done) []
unfolding Reversed
can_be_reversed shapes of first steps done run =
    let r = reversed shapes (suc steps) of first steps done (omega arith) run in
    (r.steps, r.run)
