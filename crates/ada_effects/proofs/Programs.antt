-- The procedures of a program: each answers for each exception, and what is known of its calls is told by its body; and the laws.

use Rattle.std.proofs.Common.{◌≡◌, ℕ, ◌+◌, Bool, true, ◌||◌, not, List, [], ◌∷◌, ◌++◌, length, Some, zero, suc, take, refl, ap, sym, subst, ◌∙◌, arith, append-nil, append_assoc, length-append}
use Rattle.std.proofs.lemmas.Option.{same_Some}
use Rattle.std.proofs.lemmas.Bool.{not_from_false, not_from_true, not-true}
use Rattle.std.proofs.Math.Path.{fun_ext}
use Rattle.std.specs.List.{slice_get}
use Rattle.ada_effects.specs.Effects.{Effect, Implicit, Effects, untaken, declarations_raise, stmts_raise, handlers_raise, effect_of, known_of, effects_from, effects_of}
use Rattle.ada_effects.specs.Laws as laws
use Rattle.ada_effects.specs.ProgramLaws as program_laws
use Rattle.ada_effects.proofs.Calls.{Each, AllEach, either, one_of, each_more, call_stays, call_has_one}
use Rattle.ada_effects.proofs.Raising.{within_untaken, declarations_stay, declarations_have_one, stmts_stay, stmts_have_one, handlers_stay, handlers_have_one, one_untaken, none_is_raised}
use Rattle.ada_effects.proofs.Sameness.{are_equal, same_if_equal}
use Rattle.ada_effects.proofs.Sets.{others_take}
use Rattle.ada_program.specs.declared.program.Exception.{Exception}
use Rattle.ada_program.specs.Form.{StmtsForm}
use Rattle.ada_program.specs.Handling.{is_same, is_taken}
use Rattle.ada_program.specs.ProgramForm.{TypeForm, BodyForm, ProgramForm}

-- One answer, where two questions agree on each exception.
pub stmts_agree : (es : Effects) (p q : Exception → Bool) (fs : StmtsForm) → ((e : Exception) → p e ≡ q e) → stmts_raise es p fs ≡ stmts_raise es q fs
stmts_agree es p q fs h = ap (λ r. stmts_raise es r fs) (fun_ext h)

-- A body answers for each exception.
body_each : (types : List TypeForm) (es : Effects) (b : BodyForm) → AllEach es.calls → Each (effect_of types es b)
body_each types es b all =
    let ds = b.declarations in let fs = b.statements in let hs = b.handlers in
    record {
      stays = λ p q w h.
          either (declarations_raise es.implicit p ds || stmts_raise es (untaken hs p) fs) (handlers_raise es p hs)
          (declarations_raise es.implicit q ds || stmts_raise es (untaken hs q) fs) (handlers_raise es q hs)
          (either (declarations_raise es.implicit p ds) (stmts_raise es (untaken hs p) fs) (declarations_raise es.implicit q ds) (stmts_raise es (untaken hs q) fs)
          (declarations_stay es.implicit p q w ds) (stmts_stay es all fs (untaken hs p) (untaken hs q) (within_untaken hs p q w)))
          (handlers_stay es all hs p q w) h;
      one = λ p h.
          one_of p (λ r. declarations_raise es.implicit r ds || stmts_raise es (untaken hs r) fs) (λ r. handlers_raise es r hs)
          (one_of p (λ r. declarations_raise es.implicit r ds) (λ r. stmts_raise es (untaken hs r) fs)
          (declarations_have_one es.implicit p ds) (λ x. one_untaken es all p hs fs (stmts_have_one es all fs (untaken hs p) x)))
          (handlers_have_one es all hs p) h;
    }

from_each : (types : List TypeForm) (i : Implicit) (es : List Effect) (bs : List BodyForm) → AllEach es → AllEach (effects_from types i es bs)
from_each types i es [] all = all
from_each types i es (b ∷ bs) all = from_each types i (es ++ effect_of types (known_of i es) b ∷ []) bs (each_more es (effect_of types (known_of i es) b) all (body_each types (known_of i es) b all))

pub program_each : (i : Implicit) (p : ProgramForm) → AllEach (effects_of i p).calls
program_each i p = from_each p.types i [] p.bodies tt

-- What is known of procedures stays where more are added behind.

at_seam : (es : List Effect) (e : Effect) (more : List Effect) → slice_get (es ++ (e ∷ more)) (length es) ≡ Some e
at_seam [] e more = refl
at_seam (f ∷ es) e more = at_seam es e more

effects_behind : (types : List TypeForm) (i : Implicit) (es : List Effect) (bs : List BodyForm) → (more : List Effect) × (effects_from types i es bs ≡ es ++ more)
effects_behind types i es [] = ([], sym (append-nil es))
effects_behind types i es (b ∷ bs) =
    let e = effect_of types (known_of i es) b in
    let behind = effects_behind types i (es ++ (e ∷ [])) bs in
    (e ∷ behind.0, behind.1 ∙ append_assoc es (e ∷ []) behind.0)

from_bodies : (types : List TypeForm) (i : Implicit) (es : List Effect) (bs : List BodyForm) (n : ℕ) (b : BodyForm) → slice_get bs n ≡ Some b →
    slice_get (effects_from types i es bs) (length es + n) ≡ Some (effect_of types (known_of i (effects_from types i es (take n bs))) b)
from_bodies types i es [] n b h = cc
from_bodies types i es (c ∷ bs) zero b h =
    let e = effect_of types (known_of i es) c in
    let behind = effects_behind types i (es ++ (e ∷ [])) bs in
    let here : length es + 0 ≡ length es = omega arith in
    ap (λ (k : ℕ). slice_get (effects_from types i (es ++ (e ∷ [])) bs) k) here ∙
    ap (λ all. slice_get all (length es)) (behind.1 ∙ append_assoc es (e ∷ []) behind.0) ∙
    at_seam es e behind.0 ∙
    ap (λ x. Some (effect_of types (known_of i es) x)) (same_Some c b h)
from_bodies types i es (c ∷ bs) (suc n) b h =
    let e = effect_of types (known_of i es) c in
    let longer = length-append es (e ∷ []) in
    let here : length es + suc n ≡ length (es ++ (e ∷ [])) + n = omega arith in
    ap (λ (k : ℕ). slice_get (effects_from types i (es ++ (e ∷ [])) bs) k) here ∙ from_bodies types i (es ++ (e ∷ [])) bs n b h

-- The laws.

pub same_means_equal : laws.SameMeansEqual
same_means_equal e f = (are_equal e f, same_if_equal e f)

pub something_passes : laws.SomethingPasses
something_passes i p fs hs h =
    let one = stmts_have_one (effects_of i p) (program_each i p) fs (λ x. not (is_taken hs x)) h in (
      one.0,
      stmts_stay (effects_of i p) (program_each i p) fs (is_same one.0) (λ x. is_same x one.0)
          (λ x same. same_if_equal x one.0 (sym (are_equal one.0 x same))) one.2,
      not-true (is_taken hs one.0) one.1,
    )

pub untaken_passes : program_laws.UntakenPasses
untaken_passes i p fs hs e raised untaken =
    let P : Exception → Type 0 = λ x. not (is_taken hs x) ≡ true in
    stmts_stay (effects_of i p) (program_each i p) fs (is_same e) (λ x. not (is_taken hs x))
    (λ x same. subst P (are_equal e x same) (not_from_false (is_taken hs e) untaken)) raised

pub others_take_all : program_laws.OthersTakeAll
others_take_all i p fs hs h =
    none_is_raised (effects_of i p) (program_each i p) (λ x. not (is_taken hs x)) fs (λ x. not_from_true (is_taken hs x) (others_take hs x h))

pub calls_raise_each : program_laws.CallsRaiseEach
calls_raise_each i p n among = (
  call_has_one (effects_of i p).calls (program_each i p) n among,
  λ one. call_stays (effects_of i p).calls (program_each i p) n (is_same one.0) among
      (λ x same. let P : Exception → Type 0 = λ y. among y ≡ true in subst P (are_equal one.0 x same) one.1) one.2,
)

pub calls_do_as_bodies : program_laws.CallsDoAsBodies
calls_do_as_bodies i p n b h =
    let here : n ≡ 0 + n = omega arith in
    ap (λ (k : ℕ). slice_get (effects_of i p).calls k) here ∙ from_bodies p.types i [] p.bodies n b h
