-- Procedures of a program: what is known of their calls, by the procedures before them, and that each body breaks no rule.

use Rattle.std.proofs.Common.{◌≡◌, ℕ, zero, suc, ◌+◌, Bool, true, false, List, [], ◌∷◌, ◌++◌, length, take, refl, sym, ap, subst, arith, length-append}
use Rattle.std.specs.Prelude.{Option, Some, None, if◌then◌else◌}
use Rattle.std.specs.List.{slice_get}
use Rattle.ada_program.specs.ProgramForm.{TypeForm, BodyForm, ProgramForm, main_body, seen_by, seen_in}
use Rattle.ada_effects.specs.Effects.{Effect, Implicit, effect_of, known_of, effects_from, effects_of}
use Rattle.ada_flow.specs.Flow.{Keeping, keeping_from, keeping_of, body_keeps, Holds, Outcome, faults, goes, body_flow, tracks_of, first_fault, bodies_flow, flow_of, is_left_of}
use Rattle.ada_flow.specs.Tracking.{Tracks, no_tracks}
use Rattle.ada_sound.proofs.Objects.{get_more, get_new}

-- What is among the first of a list is in the list, and what stands before it is the same.
pub taken_get : {X : Type 0} (n : ℕ) (xs : List X) (k : ℕ) (x : X) → slice_get (take n xs) k ≡ Some x → slice_get xs k ≡ Some x
taken_get zero xs k x e = absurd (cc e)
taken_get (suc n) [] k x e = absurd (cc e)
taken_get (suc n) (y ∷ xs) zero x e = e
taken_get (suc n) (y ∷ xs) (suc k) x e = taken_get n xs k x e

pub taken_before : {X : Type 0} (n : ℕ) (xs : List X) (k : ℕ) (x : X) → slice_get (take n xs) k ≡ Some x → take k (take n xs) ≡ take k xs
taken_before zero xs k x e = absurd (cc e)
taken_before (suc n) [] k x e = absurd (cc e)
taken_before (suc n) (y ∷ xs) zero x e = refl
taken_before (suc n) (y ∷ xs) (suc k) x e = ap (λ ys. y ∷ ys) (taken_before n xs k x e)

-- Where no rule is broken, none is in either of two bodies.
abbrev pub IsFine : Outcome → Type 0
IsFine o = (normal raising : Option Holds) × (o ≡ goes normal raising)

first_of_two : (a b : Outcome) → IsFine (first_fault a b) → IsFine a
first_of_two (goes normal raising) b f = (normal, raising, refl)
first_of_two (faults spot rule) (goes normal raising) f = absurd (cc f.2)
first_of_two (faults spot rule) (faults other_spot other_rule) f = go (is_left_of other_spot spot) f
  where
    go : (left : Bool) → IsFine (if left then faults other_spot other_rule else faults spot rule) → IsFine (faults spot rule)
    go true f = absurd (cc f.2)
    go false f = absurd (cc f.2)

second_of_two : (a b : Outcome) → IsFine (first_fault a b) → IsFine b
second_of_two (goes normal raising) b f = f
second_of_two (faults spot rule) (goes normal raising) f = absurd (cc f.2)
second_of_two (faults spot rule) (faults other_spot other_rule) f = go (is_left_of other_spot spot) f
  where
    go : (left : Bool) → IsFine (if left then faults other_spot other_rule else faults spot rule) → IsFine (faults other_spot other_rule)
    go true f = absurd (cc f.2)
    go false f = absurd (cc f.2)

module _ (types : List TypeForm) (implicit : Implicit) where
  -- What is known of calls stays known where more procedures come.
  effects_stay : (bs : List BodyForm) (done : List Effect) (i : ℕ) (x : Effect) → slice_get done i ≡ Some x → slice_get (effects_from types implicit done bs) i ≡ Some x
  effects_stay [] done i x e = e
  effects_stay (b ∷ bs) done i x e = effects_stay bs (done ++ effect_of types (known_of implicit done) b ∷ []) i x (get_more done (effect_of types (known_of implicit done) b) i x e)

  effect_behind : (bs : List BodyForm) (done : List Effect) (k : ℕ) (b : BodyForm) → slice_get bs k ≡ Some b → slice_get (effects_from types implicit done bs) (length done + k) ≡ Some (effect_of types (known_of implicit (effects_from types implicit done (take k bs))) b)
  effect_behind [] done k b e = absurd (cc e)
  effect_behind (c ∷ bs) done zero b e =
      let same : Some c ≡ Some b = e in
      let at : length done + zero ≡ length done = omega arith in
      rw (at, ← some_same c b same) (effects_stay bs (done ++ effect_of types (known_of implicit done) c ∷ []) (length done) (effect_of types (known_of implicit done) c) (get_new done (effect_of types (known_of implicit done) c)))
    where
      some_same : (c b : BodyForm) → Some c ≡ Some b → c ≡ b
      some_same c b e = cc e
  effect_behind (c ∷ bs) done (suc k) b e =
      let at : length (done ++ effect_of types (known_of implicit done) c ∷ []) + k ≡ length done + suc k = omega (arith, length-append done (effect_of types (known_of implicit done) c ∷ [])) in
      rw at at (effect_behind bs (done ++ effect_of types (known_of implicit done) c ∷ []) k b e)

  -- What is known of the calls of a procedure, by its body and by those before it.
  pub effect_at : (bs : List BodyForm) (k : ℕ) (b : BodyForm) → slice_get bs k ≡ Some b → slice_get (effects_from types implicit [] bs) k ≡ Some (effect_of types (known_of implicit (effects_from types implicit [] (take k bs))) b)
  effect_at bs k b e = let at : zero + k ≡ k = omega arith in rw at at (effect_behind bs [] k b e)

  -- Each procedure breaks no rule, with the components that it tracks (7.6); so does the main body, which tracks none.
  pub main_fine : (bs : List BodyForm) (done : List Effect) (kept : List Keeping) (main : BodyForm) → IsFine (bodies_flow types implicit done kept bs main)
      → IsFine (body_flow types (known_of implicit (effects_from types implicit done bs)) (keeping_from types implicit done kept bs) no_tracks main)
  main_fine [] done kept main f = f
  main_fine (b ∷ bs) done kept main f =
      let more = done ++ effect_of types (known_of implicit done) b ∷ [] in
      let keeping = kept ++ body_keeps types (known_of implicit done) kept (tracks_of types (length done) b) b ∷ [] in
      main_fine bs more keeping main (second_of_two (body_flow types (known_of implicit done) kept (tracks_of types (length done) b) b) (bodies_flow types implicit more keeping bs main) f)

  pub body_fine : (bs : List BodyForm) (done : List Effect) (kept : List Keeping) (main : BodyForm) (k : ℕ) (b : BodyForm) → slice_get bs k ≡ Some b → IsFine (bodies_flow types implicit done kept bs main)
      → IsFine (body_flow types (known_of implicit (effects_from types implicit done (take k bs))) (keeping_from types implicit done kept (take k bs)) (tracks_of types (length done + k) b) b)
  body_fine [] done kept main k b e f = absurd (cc e)
  body_fine (c ∷ bs) done kept main zero b e f =
      let more = done ++ effect_of types (known_of implicit done) c ∷ [] in
      let keeping = kept ++ body_keeps types (known_of implicit done) kept (tracks_of types (length done) c) c ∷ [] in
      let at : length done + zero ≡ length done = omega arith in
      rw (at, ← some_same c b e) (first_of_two (body_flow types (known_of implicit done) kept (tracks_of types (length done) c) c) (bodies_flow types implicit more keeping bs main) f)
    where
      some_same : (c b : BodyForm) → Some c ≡ Some b → c ≡ b
      some_same c b e = cc e
  body_fine (c ∷ bs) done kept main (suc k) b e f =
      let more = done ++ effect_of types (known_of implicit done) c ∷ [] in
      let keeping = kept ++ body_keeps types (known_of implicit done) kept (tracks_of types (length done) c) c ∷ [] in
      let at : length more + k ≡ length done + suc k = omega (arith, length-append done (effect_of types (known_of implicit done) c ∷ [])) in
      subst (λ number. IsFine (body_flow types (known_of implicit (effects_from types implicit more (take k bs))) (keeping_from types implicit more keeping (take k bs)) (tracks_of types number b) b)) at
      (body_fine bs more keeping main k b e (second_of_two (body_flow types (known_of implicit done) kept (tracks_of types (length done) c) c) (bodies_flow types implicit more keeping bs main) f))

-- The body of a program as one of its bodies sees it: the main one, or a procedure's that is there.
abbrev pub IsBody : ProgramForm → (procedure : Option ℕ) → Type 0
IsBody p None = Unit {0}
IsBody p (Some number) = (b : BodyForm) × (slice_get p.bodies number ≡ Some b)

-- What it sees.
pub seen_is : (p : ProgramForm) (number : ℕ) (b : BodyForm) → slice_get p.bodies number ≡ Some b → seen_in (Some number) p ≡ seen_by number b p
seen_is p number b e = rw e refl

-- The components of its formal parameter that it tracks (7.6): the main body has none.
abbrev pub tracks_in : (procedure : Option ℕ) → ProgramForm → Tracks
tracks_in None p = no_tracks
tracks_in (Some number) p = tracks_of p.types number (main_body (seen_in (Some number) p))

-- The body of a procedure breaks no rule.
pub obeys_at : (implicit : Implicit) (p : ProgramForm) (number : ℕ) (b : BodyForm) → slice_get p.bodies number ≡ Some b → IsFine (flow_of implicit p)
    → IsFine (body_flow p.types (effects_of implicit (seen_by number b p)) (keeping_of implicit (seen_by number b p)) (tracks_of p.types number b) b)
obeys_at implicit p number b e f =
    let own = seen_by number b p in
    let at : zero + number ≡ number = omega arith in
    subst (λ n. IsFine (body_flow p.types (effects_of implicit own) (keeping_of implicit own) (tracks_of p.types n b) b)) at (body_fine p.types implicit p.bodies [] [] (main_body p) number b e f)

-- Each body breaks none.
pub obeys_in : (implicit : Implicit) (p : ProgramForm) (procedure : Option ℕ) → IsBody p procedure → IsFine (flow_of implicit p)
    → IsFine (body_flow p.types (effects_of implicit (seen_in procedure p)) (keeping_of implicit (seen_in procedure p)) (tracks_in procedure p) (main_body (seen_in procedure p)))
obeys_in implicit p None is f = main_fine p.types implicit p.bodies [] [] (main_body p) f
obeys_in implicit p (Some number) (b, e) f = rw (seen_is p number b e) (obeys_at implicit p number b e f)

-- A procedure that a body may call is one of the program, and sees what it sees by that body's view.
pub callee_get : (p : ProgramForm) (procedure : Option ℕ) (number : ℕ) (b : BodyForm) → IsBody p procedure → slice_get (seen_in procedure p).bodies number ≡ Some b → slice_get p.bodies number ≡ Some b
callee_get p None number b is e = e
callee_get p (Some caller) number b (c, at) e = taken_get caller p.bodies number b (rw (seen_is p caller c at) at e)

pub callee_sees : (p : ProgramForm) (procedure : Option ℕ) (number : ℕ) (b : BodyForm) → IsBody p procedure → slice_get (seen_in procedure p).bodies number ≡ Some b → seen_by number b (seen_in procedure p) ≡ seen_in (Some number) p
callee_sees p None number b is e = sym (seen_is p number b e)
callee_sees p (Some caller) number b (c, at) e =
    let there : slice_get (take caller p.bodies) number ≡ Some b = rw (seen_is p caller c at) at e in
    let same : take number (take caller p.bodies) ≡ take number p.bodies = taken_before caller p.bodies number b there in
    let seen = seen_is p number b (taken_get caller p.bodies number b there) in
    rw (seen, seen_is p caller c at, same) refl
