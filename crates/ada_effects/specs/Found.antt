-- What the code finds in a form: exceptions that it may raise, and access types of which it may free objects; and effects as the code holds them.

use Rattle.std.specs.Prelude.{◌≡◌, ℕ, Bool, false, ◌&&◌, ◌||◌, not, ◌==◌, List, [], map, Option, Some, None, Result, OnOk}
use Rattle.std.specs.List.{list_any, slice_get}
use Rattle.std.specs.declared.alloc.AllocError.{AllocError}
use Rattle.ada_effects.specs.declared.effect.Effect.{Effect as HeldEffect}
use Rattle.ada_effects.specs.declared.found.Found.{Found}
use Rattle.ada_effects.specs.declared.freed.Freed.{Freed}
use Rattle.ada_effects.specs.declared.implicit.AccessTypes.{AccessTypes}
use Rattle.ada_effects.specs.declared.implicit.Effects.{Effects as HeldEffects}
use Rattle.ada_effects.specs.declared.implicit.Implicit.{Implicit as HeldImplicit}
use Rattle.ada_effects.specs.Effects.{Effect, Implicit, Effects, known_of}
use Rattle.ada_program.specs.declared.program.Exception.{Exception}
use Rattle.ada_program.specs.declared.program.TypeNo.{TypeNo}

-- Is the type of this number among types?
abbrev pub has_number : List TypeNo → ℕ → Bool
has_number types t = list_any (λ x. x.0 == t) types

-- The exceptions that calls may raise, and whether they may free objects of an access type, as the code holds them; no calls, past the end of a list.
abbrev pub raised_by : Option HeldEffect → List Exception
raised_by None = []
raised_by (Some e) = e.raises.items

abbrev pub freed_by : Option HeldEffect → (access : ℕ) → Bool
freed_by None t = false
freed_by (Some e) t = has_number e.frees.items t

-- Is an access type among these, if they are there?
abbrev pub is_listed : Option AccessTypes → (access : ℕ) → Bool
is_listed None t = false
is_listed (Some types) t = has_number types.list.items t

-- What is known of implicit calls, as the code holds it.
abbrev pub implicit_in : HeldImplicit → Implicit
implicit_in i = record {
  start_raises = λ u. raised_by (slice_get i.starts.items u);
  start_frees = λ u t. freed_by (slice_get i.starts.items u) t;
  adjust_frees = λ u t. is_listed (slice_get i.adjusts.items u) t;
  end_frees = λ u t. is_listed (slice_get i.ends.items u) t;
  end_reaches = λ u t. is_listed (slice_get i.reached.items u) t;
}

-- What is known of the calls of a procedure, as the code holds it.
abbrev pub effect_in : HeldEffect → Effect
effect_in e = record { raises = λ among. list_any among e.raises.items; frees = has_number e.frees.items }

-- The same of procedures, by their numbers.
abbrev pub calls_in : List HeldEffect → List Effect
calls_in effects = map effect_in effects

-- What is known of procedures and of implicit calls.
abbrev pub effects_in : HeldEffects → Effects
effects_in effects = known_of (implicit_in effects.implicit.now) (calls_in effects.calls.now)

-- Is one of these exceptions found?
abbrev pub is_found : Found → (among : Exception → Bool) → Bool
is_found found among = list_any among found.list.items

-- Of these exceptions, those that are not taken.
unfoldable pub left_of : (taken : Exception → Bool) → (among : Exception → Bool) → Exception → Bool
left_of taken among e = among e && not (taken e)

-- What is found besides is what a form raises of what is not taken, want of memory aside.
abbrev pub Finds : {X : Type 0} → Result X AllocError → (taken : Exception → Bool) → (before after : Found) → (raised : (Exception → Bool) → Bool) → Type 0
Finds answer taken before after raised =
    OnOk answer ((among : Exception → Bool) → is_found after among ≡ (is_found before among || raised (left_of taken among)))

-- The access types that are found besides are those of which a form may free objects, want of memory aside.
abbrev pub Frees : {X : Type 0} → Result X AllocError → (before after : Freed) → (freed : ℕ → Bool) → Type 0
Frees answer before after freed = OnOk answer ((t : ℕ) → has_number after.list.items t ≡ (has_number before.list.items t || freed t))
