-- What procedures of a program keep, by their bodies and by the procedures before them.

use Rattle.std.proofs.Common.{◌≡◌, ℕ, zero, suc, ◌+◌, List, [], ◌∷◌, ◌++◌, length, take, subst, arith, length-append}
use Rattle.std.specs.Prelude.{Option, Some}
use Rattle.std.specs.List.{slice_get}
use Rattle.ada_program.specs.ProgramForm.{TypeForm, BodyForm, ProgramForm, main_body, seen_in}
use Rattle.ada_effects.specs.Effects.{Effect, Implicit, effect_of, known_of, effects_from, effects_of}
use Rattle.ada_flow.specs.Flow.{Keeping, body_keeps, keeping_from, keeping_of, kept_at, tracks_of}
use Rattle.ada_flow.specs.Tracking.{no_tracks}
use Rattle.ada_sound.proofs.Objects.{get_more, get_new}
use Rattle.ada_sound.proofs.Bodies.{IsBody, callee_sees}

-- What stands at a number is kept by it.
kept_got : (kept : List Keeping) (k : ℕ) (keeping : Keeping) → slice_get kept k ≡ Some keeping → kept_at kept k ≡ keeping
kept_got [] k keeping e = absurd (cc e)
kept_got (x ∷ xs) zero keeping e = cc e
kept_got (x ∷ xs) (suc k) keeping e = kept_got xs k keeping e

module _ (types : List TypeForm) (implicit : Implicit) where
  -- What is known of procedures stays known where more of them come.
  keepings_stay : (bs : List BodyForm) (done : List Effect) (kept : List Keeping) (i : ℕ) (x : Keeping) → slice_get kept i ≡ Some x → slice_get (keeping_from types implicit done kept bs) i ≡ Some x
  keepings_stay [] done kept i x e = e
  keepings_stay (b ∷ bs) done kept i x e =
      let own = body_keeps types (known_of implicit done) kept (tracks_of types (length done) b) b in
      keepings_stay bs (done ++ effect_of types (known_of implicit done) b ∷ []) (kept ++ own ∷ []) i x (get_more kept own i x e)

  keeping_behind : (bs : List BodyForm) (done : List Effect) (kept : List Keeping) (k : ℕ) (b : BodyForm) → slice_get bs k ≡ Some b
      → slice_get (keeping_from types implicit done kept bs) (length kept + k)
      ≡ Some (body_keeps types (known_of implicit (effects_from types implicit done (take k bs))) (keeping_from types implicit done kept (take k bs)) (tracks_of types (length done + k) b) b)
  keeping_behind [] done kept k b e = absurd (cc e)
  keeping_behind (c ∷ bs) done kept zero b e =
      let own = body_keeps types (known_of implicit done) kept (tracks_of types (length done) c) c in
      let at : length kept + zero ≡ length kept = omega arith in
      let first : length done + zero ≡ length done = omega arith in
      let same : c ≡ b = cc e in
      subst (λ (d : BodyForm). slice_get (keeping_from types implicit done kept (c ∷ bs)) (length kept + zero) ≡ Some (body_keeps types (known_of implicit done) kept (tracks_of types (length done + zero) d) d)) same
      (rw (at, first) (keepings_stay bs (done ++ effect_of types (known_of implicit done) c ∷ []) (kept ++ own ∷ []) (length kept) own (get_new kept own)))
  keeping_behind (c ∷ bs) done kept (suc k) b e =
      let own = body_keeps types (known_of implicit done) kept (tracks_of types (length done) c) c in
      let more = done ++ effect_of types (known_of implicit done) c ∷ [] in
      let at : length (kept ++ own ∷ []) + k ≡ length kept + suc k = omega (arith, length-append kept (own ∷ [])) in
      let next : length more + k ≡ length done + suc k = omega (arith, length-append done (effect_of types (known_of implicit done) c ∷ [])) in
      subst (λ number. slice_get (keeping_from types implicit done kept (c ∷ bs)) (length kept + suc k)
      ≡ Some (body_keeps types (known_of implicit (effects_from types implicit done (take (suc k) (c ∷ bs)))) (keeping_from types implicit done kept (take (suc k) (c ∷ bs))) (tracks_of types number b) b)) next
      (rw at at (keeping_behind bs more (kept ++ own ∷ []) k b e))

  -- What a procedure keeps, by its body and by those before it.
  pub keeping_at : (bs : List BodyForm) (k : ℕ) (b : BodyForm) → slice_get bs k ≡ Some b
      → kept_at (keeping_from types implicit [] [] bs) k
      ≡ body_keeps types (known_of implicit (effects_from types implicit [] (take k bs))) (keeping_from types implicit [] [] (take k bs)) (tracks_of types k b) b
  keeping_at bs k b e =
      let at : zero + k ≡ k = omega arith in
      kept_got (keeping_from types implicit [] [] bs) k (body_keeps types (known_of implicit (effects_from types implicit [] (take k bs))) (keeping_from types implicit [] [] (take k bs)) (tracks_of types k b) b) (rw at at (keeping_behind bs [] [] k b e))

-- What the body of a procedure keeps that tracks nothing, by what it sees.
abbrev pub keeps_itself : Implicit → ProgramForm → Keeping
keeps_itself implicit p = body_keeps p.types (effects_of implicit p) (keeping_of implicit p) no_tracks (main_body p)

-- A body knows of each procedure that it may call what this one keeps.
pub callee_keeps : (implicit : Implicit) (p : ProgramForm) (procedure : Option ℕ) (number : ℕ) (b : BodyForm) → tracks_of (seen_in procedure p).types number b ≡ no_tracks → IsBody p procedure → slice_get (seen_in procedure p).bodies number ≡ Some b → kept_at (keeping_of implicit (seen_in procedure p)) number ≡ keeps_itself implicit (seen_in (Some number) p)
callee_keeps implicit p procedure number b none is e =
    let own = seen_in procedure p in
    rw (← callee_sees p procedure number b is e)
    (subst (λ tracks. kept_at (keeping_of implicit own) number
    ≡ body_keeps own.types (known_of implicit (effects_from own.types implicit [] (take number own.bodies))) (keeping_from own.types implicit [] [] (take number own.bodies)) tracks b)
    none (keeping_at own.types implicit own.bodies number b e))
