-- Quiet steps one after another, as the machine makes them within a limit of statements.

use Rattle.std.proofs.Common.{◌≡◌, ℕ, ◌+◌, ◌-◌, ◌<◌, ◌≤◌, Bool, true, false, List, [], ◌∷◌, length, reverse, Option, Some, None, Result, Ok, Err, IfOk, IfSome, refl, sym, ap, ◌∙◌, subst, arith}
use Rattle.std.proofs.Math.ListN.{set, get_or}
use Rattle.std.proofs.lemmas.Grind.{get_or_head}
use Rattle.std.proofs.lemmas.List.{get_or-reverse, reverse-reverse, length-reverse}
use Rattle.std.specs.Prelude.{ℤ}
use Rattle.std.specs.declared.alloc.AllocError.{AllocError}
use Rattle.ada_program.specs.declared.program.Program.{Program}
use Rattle.ada_program.specs.ProgramForm.{body_forms}
use Rattle.ada_meaning.specs.Event.{Quiet}
use Rattle.ada_meaning.specs.State.{begins}
use Rattle.ada_meaning.specs.Step.{moves}
use Rattle.ada_meaning.specs.Named.{State, Next, next}
use Rattle.ada_meaning.specs.Run.{settled, Leads}
use Rattle.ada_meaning.specs.Chosen.{begun_with}
use Rattle.ada_meaning.specs.Ending.{weight, calls_operation, StepsMakeLighter}
use Rattle.ada_interpreter.specs.declared.frame.Frame.{Frame as HeldFrame}
use Rattle.ada_interpreter.specs.declared.process.Process.{Process}
use Rattle.ada_interpreter.specs.CommonSteps.{MayMove, GoesQuietly, stays, goes_on, GoesWithin, stays_within, goes_within, GoesOn, MayGoOn, CallsNone, counted_to, newest_counted_to}
use Rattle.ada_interpreter.specs.Process.{state_of}
use Rattle.ada_interpreter.proofs.StackLemmas.{set_newest}

-- Steps within a statement, one after another.

pub joined : {program : Program} {first mid last : State} → GoesWithin program first mid → GoesWithin program mid last → GoesWithin program first last
joined first stays_within = first
joined first (goes_within before more starts calls is) = goes_within before (joined first more) starts calls is

pub one_within : (program : Program) (mid last : State) → begins mid ≡ false → calls_operation program.types.items mid ≡ false → next program.types.items (body_forms program) mid ≡ moves Quiet last → GoesWithin program mid last
one_within program mid last starts calls is = goes_within mid stays_within starts calls is

-- they begin no statement
pub quietly_within : {program : Program} {first mid last : State} {statements : ℕ} → GoesQuietly program first statements mid → GoesWithin program mid last → GoesQuietly program first statements last
quietly_within so_far stays_within = so_far
quietly_within {program} {first} {mid} {last} {statements} so_far (goes_within before more starts calls is) =
    goes_on statements before (quietly_within so_far more) is (sym (ap (λ (b : Bool). begun_with b statements) starts))

-- and make the state no heavier
pub no_heavier : StepsMakeLighter → {program : Program} {first last : State} → GoesWithin program first last → weight program.types.items last ≤ weight program.types.items first
no_heavier lightens stays_within = omega arith
no_heavier lightens {program} {first} {last} (goes_within mid more starts calls is) =
    let less : weight program.types.items last < weight program.types.items mid = lightens program mid settled Quiet last starts calls (subst (λ (coming : Next). Leads coming settled Quiet last) (sym is) (refl, refl)) in
    let so_far : weight program.types.items mid ≤ weight program.types.items first = no_heavier lightens more in
    omega (arith, less, so_far)

-- steps behind what goes on so far
pub on_then : {program : Program} {coming : Next} {mid last : State} → GoesOn program coming mid → GoesWithin program mid last → GoesOn program coming last
on_then on more = record { mid = on.mid; comes = on.comes; behind = joined on.behind more }

-- One step alone.

pub goes_once : {program : Program} {coming : Next} {last : State} → moves Quiet last ≡ coming → GoesOn program coming last
goes_once {program} {coming} {last} is = record { mid = last; comes = sym is; behind = stays_within }

pub may_once : (program : Program) (coming : Next) (before : Process) (made : Result Bool AllocError) (after : Process) → MayMove coming before made after → MayGoOn program coming before made after
may_once program coming before (Ok true) after is = goes_once is
may_once program coming before (Ok false) after is = is
may_once program coming before (Err fault) after is = tt

-- whatever is made where no operation would be called
pub calls_none : (program : Program) (before : Process) (made : Result Bool AllocError) → calls_operation program.types.items (state_of before) ≡ false → CallsNone program before made
calls_none program before (Ok true) none = none
calls_none program before (Ok false) none = tt
calls_none program before (Err e) none = tt

-- Common steps within a limit of statements.

-- no step was made yet, and no statement began
pub none_made : (program : Program) (first : State) (limit : ℕ) → GoesQuietly program first (limit - limit) first
none_made program first limit =
    let none : 0 ≡ limit - limit = omega arith in
    subst (λ (n : ℕ). GoesQuietly program first n first) none stays

pub more_steps : {program : Program} {first mid last : State} {statements : ℕ} → GoesQuietly program first statements mid → GoesOn program (next program.types.items (body_forms program) mid) last → begins mid ≡ false → GoesQuietly program first statements last
more_steps {program} {first} {mid} {last} {statements} so_far on starts =
    quietly_within (goes_on statements mid so_far on.comes (sym (ap (λ (b : Bool). begun_with b statements) starts))) on.behind

pub one_statement_more : {program : Program} {first mid last : State} (limit left : ℕ) → GoesQuietly program first (limit - left) mid → GoesOn program (next program.types.items (body_forms program) mid) last → begins mid ≡ true → 0 < left → left ≤ limit → GoesQuietly program first (limit - (left - 1)) last
one_statement_more {program} {first} {mid} {last} limit left so_far on starts some within =
    let count : limit - (left - 1) ≡ begun_with true (limit - left) = omega (arith, some, within) in
    let begun : begun_with true (limit - left) ≡ begun_with (begins mid) (limit - left) = sym (ap (λ (b : Bool). begun_with b (limit - left)) starts) in
    quietly_within (goes_on (limit - left) mid so_far on.comes (rw count begun)) on.behind

pub lighter_behind : StepsMakeLighter → (program : Program) (mid last : State) → GoesOn program (next program.types.items (body_forms program) mid) last → begins mid ≡ false → calls_operation program.types.items mid ≡ false → weight program.types.items last < weight program.types.items mid
lighter_behind lightens program mid last on starts calls =
    let less : weight program.types.items on.mid < weight program.types.items mid = lightens program mid settled Quiet on.mid starts calls (subst (λ (coming : Next). Leads coming settled Quiet on.mid) (sym on.comes) (refl, refl)) in
    let so_far : weight program.types.items last ≤ weight program.types.items on.mid = no_heavier lightens on.behind in
    omega (arith, less, so_far)

-- quiet steps behind quiet steps
pub quietly_joined : {program : Program} {first mid last : State} {before behind : ℕ} → GoesQuietly program first before mid → GoesQuietly program mid behind last → GoesQuietly program first (before + behind) last
quietly_joined {program} {first} {mid} {last} {before} so_far stays = subst (λ (n : ℕ). GoesQuietly program first n mid) (omega arith) so_far
quietly_joined {program} {first} {mid} {last} {before} {behind} so_far (goes_on less between more is count) =
    goes_on (before + less) between (quietly_joined so_far more) is (counted (begins between) count)
  where
    counted : (b : Bool) → behind ≡ begun_with b less → before + behind ≡ begun_with b (before + less)
    counted true c = omega (arith, c)
    counted false c = omega (arith, c)

pub within_limit : {program : Program} {first mid last : State} (limit left now : ℕ) → GoesQuietly program first (limit - left) mid → GoesQuietly program mid (left - now) last → left ≤ limit → now ≤ left → GoesQuietly program first (limit - now) last
within_limit {program} {first} {mid} {last} limit left now so_far more within further =
    let count : limit - left + (left - now) ≡ limit - now = omega (arith, within, further) in
    subst (λ (n : ℕ). GoesQuietly program first n last) count (quietly_joined so_far more)

-- What comes of a result, where two facts hold of it.
pub both_ok : {T E : Type 0} (r : Result T E) (P Q R : T → Type 0) → ((x : T) → P x → Q x → R x) → IfOk r P → IfOk r Q → IfOk r R
both_ok (Ok x) P Q R f p q = f x p q
both_ok (Err e) P Q R f p q = tt

pub some_then : {T : Type 0} (o : Option T) (P Q : T → Type 0) → ((x : T) → P x → Q x) → IfSome o P → IfSome o Q
some_then (Some x) P Q f p = f x p
some_then None P Q f p = tt

-- The newest frame is counted on where it lies, at the end of a list that is kept oldest first.

-- the item at the end of such a list is the newest
pub newest_item : {X : Type 0} (zs : List X) (y d : X) → get_or (reverse (y ∷ zs)) (length zs) d ≡ y
newest_item zs y d = get_or-reverse (y ∷ zs) (length zs) d (omega arith) ∙ get_or_head y zs (length (y ∷ zs) - 1 - length zs) d (omega arith)

pub newest_counted : (xs ys : List HeldFrame) (n : ℕ) (count : ℤ) (old new : HeldFrame) → reverse xs ≡ ys → n + 1 ≡ length xs → old ≡ get_or xs n old → new ≡ counted_to count old → reverse (set xs n new) ≡ newest_counted_to count ys
newest_counted xs ys n count old new view is at counted = set_newest xs ys n new view is ∙ by ys (sym (ap (λ (l : List HeldFrame). reverse l) (sym view) ∙ reverse-reverse xs)) is
  where
    by : (ys : List HeldFrame) → xs ≡ reverse ys → n + 1 ≡ length xs → set ys 0 new ≡ newest_counted_to count ys
    by [] back is = absurd (omega (arith, is, ap (λ (l : List HeldFrame). length l) back))
    by (y ∷ zs) back is = ap (λ (f : HeldFrame). f ∷ zs) (counted ∙ ap (λ (f : HeldFrame). counted_to count f) same)
      where
        same : old ≡ y
        same =
            let size : n ≡ length zs = omega (arith, is, ap (λ (l : List HeldFrame). length l) back, length-reverse (y ∷ zs)) in
            at ∙ (ap (λ (l : List HeldFrame). get_or l n old) back ∙ (ap (λ (m : ℕ). get_or (reverse (y ∷ zs)) m old) size ∙ newest_item zs y old))
