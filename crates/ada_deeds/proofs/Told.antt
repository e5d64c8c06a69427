-- What is known of the calls of each procedure is told by its body, where this is known of the procedures before it.

use Rattle.std.proofs.Common.{◌≡◌, ℕ, ◌+◌, ◌<◌, zero, suc, List, [], ◌∷◌, ◌++◌, length, true, refl, ap, ◌∙◌, subst, arith, length-append}
use Rattle.std.specs.List.{slice_get}
use Rattle.std.specs.Prelude.{Some}
use Rattle.ada_deeds.specs.Implicit.{implicit_of}
use Rattle.ada_deeds.proofs.Known.{at_left, at_last}
use Rattle.ada_deeds.proofs.Naming.{left_holds, right_holds}
use Rattle.ada_effects.specs.Effects.{Effect, Implicit, effect_of, known_of, effects_from, effects_of}
use Rattle.ada_program.specs.ProgramForm.{TypeForm, BodyForm, ProgramForm}
use Rattle.ada_program.specs.WellFormed.{Profile, profile_of, body_fits, bodies_fit}

-- What is known of a procedure stays where more of them are added.
kept : (types : List TypeForm) (implicit : Implicit) (known : List Effect) (bs : List BodyForm) (n : ℕ) → n < length known →
    slice_get (effects_from types implicit known bs) n ≡ slice_get known n
kept types implicit known [] n below = refl
kept types implicit known (b ∷ bs) n below =
    let effect = effect_of types (known_of implicit known) b in
    let long = length-append known (effect ∷ []) in
    kept types implicit (known ++ effect ∷ []) bs n (omega (arith, long, below)) ∙ at_left known effect n below

-- Of all that is known, what is known of a procedure with this body: by the body, and by what is known of those before it, which alone it may call.
pub record Told (p : ProgramForm) (all : List Effect) (procedure : ℕ) (b : BodyForm) : Type 0 where
  pub known : List Effect
  pub callable : List Profile
  pub many : length callable ≡ procedure
  pub before : (n : ℕ) → n < procedure → slice_get all n ≡ slice_get known n
  pub fits : body_fits p.types p.texts p.exceptions callable b ≡ true
  pub told : slice_get all procedure ≡ Some (effect_of p.types (known_of (implicit_of p) known) b)

told_from : (p : ProgramForm) (known : List Effect) (callable : List Profile) (bs : List BodyForm) → length callable ≡ length known →
    bodies_fit p.types p.texts p.exceptions callable bs ≡ true → (k : ℕ) (b : BodyForm) → slice_get bs k ≡ Some b →
    Told p (effects_from p.types (implicit_of p) known bs) (length known + k) b
told_from p known callable [] many fit k b at = absurd (cc at)
told_from p known callable (c ∷ bs) many fit zero b at =
    let same : c ≡ b = cc at in
    let effect = effect_of p.types (known_of (implicit_of p) known) c in
    let all = effects_from p.types (implicit_of p) (known ++ effect ∷ []) bs in
    let here : length known + 0 ≡ length known = omega arith in
    let long = length-append known (effect ∷ []) in
    let fits = left_holds (body_fits p.types p.texts p.exceptions callable c) (bodies_fit p.types p.texts p.exceptions (callable ++ profile_of c ∷ []) bs) fit in
    record {
      known = known;
      callable = callable;
      many = omega (arith, many);
      before = λ n below. kept p.types (implicit_of p) known (c ∷ bs) n (omega (arith, below));
      fits = subst (λ (x : BodyForm). body_fits p.types p.texts p.exceptions callable x ≡ true) same fits;
      told =
          ap (λ (n : ℕ). slice_get all n) here
          ∙ kept p.types (implicit_of p) (known ++ effect ∷ []) bs (length known) (omega (arith, long))
          ∙ at_last known effect
          ∙ ap (λ (x : BodyForm). Some (effect_of p.types (known_of (implicit_of p) known) x)) same;
    }
told_from p known callable (c ∷ bs) many fit (suc k) b at =
    let effect = effect_of p.types (known_of (implicit_of p) known) c in
    let profile = profile_of c in
    let long = length-append known (effect ∷ []) in
    let longer = length-append callable (profile ∷ []) in
    let same : length (known ++ effect ∷ []) + k ≡ length known + suc k = omega (arith, long) in
    let later = right_holds (body_fits p.types p.texts p.exceptions callable c) (bodies_fit p.types p.texts p.exceptions (callable ++ profile ∷ []) bs) fit in
    subst (λ (n : ℕ). Told p (effects_from p.types (implicit_of p) (known ++ effect ∷ []) bs) n b) same
    (told_from p (known ++ effect ∷ []) (callable ++ profile ∷ []) bs (omega (arith, many, long, longer)) later k b at)

pub told_by : (p : ProgramForm) → bodies_fit p.types p.texts p.exceptions [] p.bodies ≡ true → (procedure : ℕ) (b : BodyForm) → slice_get p.bodies procedure ≡ Some b →
    Told p (effects_of (implicit_of p) p).calls procedure b
told_by p fit procedure b at =
    let first : 0 + procedure ≡ procedure = omega arith in
    subst (λ (n : ℕ). Told p (effects_of (implicit_of p) p).calls n b) first (told_from p [] [] p.bodies refl fit procedure b at)
