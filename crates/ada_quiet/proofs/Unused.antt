-- The first place of a body that overrides an operation and is not in use.

use Rattle.std.proofs.Common.{◌≡◌, ℕ, zero, suc, ◌+◌, ◌<◌, Bool, true, false, ◌&&◌, ◌||◌, ◌==◌, nat_lt, List, [], ◌∷◌, length, ◌⊎◌, inl, inr, refl, sym, ap, ◌∙◌, subst, arith}
use Rattle.std.specs.Prelude.{◌↔◌, if◌then◌else◌, Option, Some, None, is_some, not}
use Rattle.std.specs.List.{list_all, slice_get}
use Rattle.std.specs.Option.{option_map}
use Rattle.std.proofs.lemmas.Bool.{cases_lt}
use Rattle.std.proofs.lemmas.Option.{slice_get_past}
use Rattle.ada_text.specs.declared.spot.Spot.{Spot}
use Rattle.ada_program.specs.declared.program.Finalization.{Finalization}
use Rattle.ada_program.specs.declared.program.Operations.{Operations}
use Rattle.ada_program.specs.declared.program.ProcedureNo.{ProcedureNo}
use Rattle.ada_program.specs.ProgramForm.{TypeForm, BodyForm, ProgramForm}
use Rattle.ada_program.specs.WellFormed.{finalization_in, finalization_of}
use Rattle.ada_quiet.specs.First.{initializes_in_use, adjusts_in_use, finalizes_in_use, IsUnused, BeginsUnused, HasUnused, stands_before, IsFirst, first_of, start_unless, unused_in}
use Rattle.ada_quiet.specs.Frugal.{is_frugal_operation}
use Rattle.ada_quiet.specs.Simple.{is_simple_procedure}
use Rattle.ada_quiet.specs.InUse.{adjusts_nothing, may_adjust_frugally, may_be_frugal, may_track, uses_initialize, uses_adjust, uses_finalize, uses_operations, operations_are_idle, operations_may_be_called, operations_are_in_use}
use Rattle.ada_quiet.specs.Quiet.{is_quiet_body, is_plain_procedure, is_quiet_procedure, is_quiet_operation, has_quiet_operations, has_access, operation_body, adjust_body, operations_are_quiet}
use Rattle.ada_quiet.proofs.Firsts.{IsOrder, either_first, same_first, AnyBelow, any_none, any_more}

-- Places in the text.

onward : (l m n c d e : ℕ) → (nat_lt l m || ((l == m) && nat_lt c d)) ≡ true → (nat_lt m n || ((m == n) && nat_lt d e)) ≡ true →
    (nat_lt l n || ((l == n) && nat_lt c e)) ≡ true
onward l m n c d e h g = grind (arith, h, g)

back : (l m n c d e : ℕ) → (nat_lt l m || ((l == m) && nat_lt c d)) ≡ false → (nat_lt m n || ((m == n) && nat_lt d e)) ≡ false →
    (nat_lt l n || ((l == n) && nat_lt c e)) ≡ false
back l m n c d e h g = grind (arith, h, g)

apart : (l c : ℕ) → (nat_lt l l || ((l == l) && nat_lt c c)) ≡ false
apart l c = grind arith

pub text_order : IsOrder stands_before
text_order = record {
  onward = λ a b c. onward a.line b.line c.line a.column b.column c.column;
  back = λ a b c. back a.line b.line c.line a.column b.column c.column;
  apart = λ a. apart a.line a.column;
}

-- Two places are one, if neither stands before the other one.
one_place : (l m c d : ℕ) → (nat_lt l m || ((l == m) && nat_lt c d)) ≡ false → (nat_lt m l || ((m == l) && nat_lt d c)) ≡ false → (l ≡ m) × (c ≡ d)
one_place l m c d h g = (grind (arith, h, g), grind (arith, h, g))

same_place : (a b : Spot) → stands_before a b ≡ false → stands_before b a ≡ false → a ≡ b
same_place a b h g =
    let (line, column) = one_place a.line b.line a.column b.column h g in
    ap (λ (l : ℕ). record { line = l; column = a.column }) line ∙ ap (λ (c : ℕ). record { line = b.line; column = c }) column

-- So there is one first place of some, or none.
pub one_first : (places : Spot → Type 0) (a b : Option Spot) → IsFirst places a → IsFirst places b → a ≡ b
one_first places None None f g = refl
one_first places None (Some b) f g = absurd (f b g.0)
one_first places (Some a) None f g = absurd (g a f.0)
one_first places (Some a) (Some b) f g = ap (λ (s : Spot). Some s) (same_place a b (g.1 a f.0) (f.1 b g.0))

-- One operation.

pub some_same : {X : Type 0} {x y : X} → Some x ≡ Some y → x ≡ y
some_same h = cc h

-- The body of an operation begins here, and does not fit.
abbrev Begins : ProgramForm → (fits : Bool) → Option ProcedureNo → Spot → Type 0
Begins p fits o spot = (fits ≡ false) × ((b : BodyForm) × (operation_body p o ≡ Some b) × (b.start_spot ≡ spot))

operation_first : (p : ProgramForm) (fits : Bool) (o : Option ProcedureNo) → IsFirst (Begins p fits o) (start_unless fits (operation_body p o))
operation_first p true o = λ spot h. absurd (cc h.0)
operation_first p false o = go (operation_body p o) refl
  where
    go : (found : Option BodyForm) → operation_body p o ≡ found → IsFirst (Begins p false o) (option_map (λ b. b.start_spot) found)
    go None is = λ spot h. absurd (cc (sym is ∙ h.1.1))
    go (Some b) is = (
      (refl, (b, is, refl)),
      λ other h. subst (λ (s : Spot). stands_before s b.start_spot ≡ false) (ap (λ (c : BodyForm). c.start_spot) (some_same (sym is ∙ h.1.1)) ∙ h.1.2)
          (text_order.apart b.start_spot),
    )

-- Where there is the body of an operation, a procedure overrides it.
pub overriding_there : (p : ProgramForm) (o : Option ProcedureNo) (b : BodyForm) → operation_body p o ≡ Some b →
    (procedure : ProcedureNo) × (o ≡ Some procedure) × (slice_get p.bodies procedure.0 ≡ Some b)
overriding_there p None b is = absurd (cc is)
overriding_there p (Some procedure) b is = (procedure, refl, is)

body_there : (p : ProgramForm) (o : Option ProcedureNo) (procedure : ProcedureNo) (b : BodyForm) → o ≡ Some procedure
    → slice_get p.bodies procedure.0 ≡ Some b →
    operation_body p o ≡ Some b
body_there p o procedure b is at = ap (operation_body p) is ∙ at

-- It is quiet as its body is.
quiet_as : (p : ProgramForm) (o : Option ProcedureNo) (procedure : ProcedureNo) (b : BodyForm) → o ≡ Some procedure → slice_get p.bodies procedure.0 ≡ Some b →
    is_quiet_operation p o ≡ is_quiet_body p.types b
quiet_as p o procedure b is at = ap (is_quiet_operation p) is ∙ ap (is_quiet_procedure p.types) at

-- An Initialize is in use as its body is.
abbrev begun_procedure : ProgramForm → (procedure : ProcedureNo) → Option BodyForm → Bool
begun_procedure p procedure o = is_plain_procedure p.types o || (may_be_frugal p && is_frugal_operation p (Some procedure))

begun_as : (p : ProgramForm) (o : Option ProcedureNo) (procedure : ProcedureNo) (b : BodyForm) → o ≡ Some procedure → slice_get p.bodies procedure.0 ≡ Some b →
    uses_initialize p o ≡ initializes_in_use p procedure b
begun_as p o procedure b is at = ap (uses_initialize p) is ∙ ap (begun_procedure p procedure) at

-- An Adjust is in use as its body is.
abbrev adjusted_procedure : ProgramForm → (owns : Bool) → (procedure : ProcedureNo) → Option BodyForm → Bool
adjusted_procedure p owns procedure o =
    (adjusts_nothing p && is_frugal_operation p (Some procedure))
    || (if owns && is_some o
    then may_track p && is_simple_procedure p.types o
    else is_quiet_procedure p.types o || (may_adjust_frugally p && is_frugal_operation p (Some procedure)))

adjusted_body : (p : ProgramForm) (owns : Bool) (procedure : ProcedureNo) (b : BodyForm)
    → adjusted_procedure p owns procedure (Some b) ≡ adjusts_in_use p owns procedure b
adjusted_body p true procedure b = refl
adjusted_body p false procedure b = refl

adjusted_as : (p : ProgramForm) (owns : Bool) (o : Option ProcedureNo) (procedure : ProcedureNo) (b : BodyForm) → o ≡ Some procedure →
    slice_get p.bodies procedure.0 ≡ Some b → uses_adjust p owns o ≡ adjusts_in_use p owns procedure b
adjusted_as p owns o procedure b is at = ap (uses_adjust p owns) is ∙ ap (adjusted_procedure p owns procedure) at ∙ adjusted_body p owns procedure b

-- A Finalize is in use as its body is.
abbrev used_procedure : ProgramForm → (procedure : ProcedureNo) → Option BodyForm → Bool
used_procedure p procedure o =
    is_quiet_procedure p.types o || (may_be_frugal p && is_frugal_operation p (Some procedure))

used_as : (p : ProgramForm) (o : Option ProcedureNo) (procedure : ProcedureNo) (b : BodyForm) → o ≡ Some procedure → slice_get p.bodies procedure.0 ≡ Some b →
    uses_finalize p o ≡ finalizes_in_use p procedure b
used_as p o procedure b is at = ap (uses_finalize p) is ∙ ap (used_procedure p procedure) at

-- One type.

-- One of the three operations.
abbrev UnusedOf : ProgramForm → (owns : Bool) → Finalization → Spot → Type 0
UnusedOf p owns f spot =
    Begins p (uses_initialize p f.operations.initialize) f.operations.initialize spot
    ⊎ (Begins p (uses_adjust p owns f.operations.adjust) f.operations.adjust spot
    ⊎ Begins p (uses_finalize p f.operations.finalize) f.operations.finalize spot)

-- One of what overrides the operations of a type.
abbrev UnusedIn : ProgramForm → (owns : Bool) → Option Finalization → Spot → Type 0
UnusedIn p owns o spot = (f : Finalization) × (o ≡ Some f) × UnusedOf p owns f spot

type_first : (p : ProgramForm) (owns : Bool) (o : Option Finalization) →
    IsFirst (UnusedIn p owns o) (unused_in p (may_be_frugal p) (adjusts_nothing p) (may_adjust_frugally p) (may_track p) owns o)
type_first p owns None = λ spot h. absurd (cc h.1)
type_first p owns (Some f) =
    same_first stands_before (UnusedOf p owns f) (UnusedIn p owns (Some f)) (λ s h. (f, refl, h))
    (λ s h. subst (λ (g : Finalization). UnusedOf p owns g s) (sym (some_same h.1)) h.2)
    (unused_in p (may_be_frugal p) (adjusts_nothing p) (may_adjust_frugally p) (may_track p) owns (Some f))
    (either_first stands_before text_order initialize (λ s. adjust s ⊎ finalize s)
    (start_unless begins (operation_body p f.operations.initialize))
    (first_of (start_unless adjusts (operation_body p f.operations.adjust)) (start_unless ends (operation_body p f.operations.finalize)))
    (operation_first p begins f.operations.initialize)
    (either_first stands_before text_order adjust finalize
    (start_unless adjusts (operation_body p f.operations.adjust)) (start_unless ends (operation_body p f.operations.finalize))
    (operation_first p adjusts f.operations.adjust) (operation_first p ends f.operations.finalize)))
  where
    begins : Bool
    begins = uses_initialize p f.operations.initialize

    adjusts : Bool
    adjusts = uses_adjust p owns f.operations.adjust

    ends : Bool
    ends = uses_finalize p f.operations.finalize

    initialize : Spot → Type 0
    initialize s = Begins p begins f.operations.initialize s

    adjust : Spot → Type 0
    adjust s = Begins p adjusts f.operations.adjust s

    finalize : Spot → Type 0
    finalize s = Begins p ends f.operations.finalize s

-- All types.

-- One of what overrides the operations of the type of a number.
abbrev UnusedAt : ProgramForm → (t : ℕ) → Spot → Type 0
UnusedAt p t spot = UnusedIn p (has_access (slice_get p.types t)) (finalization_of p.types t) spot

-- One of what overrides the operations of the first types.
abbrev pub Below : ProgramForm → (count : ℕ) → Spot → Type 0
Below p count spot = AnyBelow (UnusedAt p) count spot

pub below_none : (p : ProgramForm) → IsFirst (Below p 0) None
below_none p = any_none stands_before (UnusedAt p)

pub below_more : (p : ProgramForm) (count : ℕ) (a b : Option Spot) → IsFirst (Below p count) a →
    b ≡ unused_in p (may_be_frugal p) (adjusts_nothing p) (may_adjust_frugally p) (may_track p) (has_access (slice_get p.types count))
    (finalization_of p.types count) →
    IsFirst (Below p (count + 1)) (first_of a b)
below_more p count a b f is =
    any_more stands_before text_order (UnusedAt p) count a b f
    (subst (IsFirst (UnusedAt p count)) (sym is) (type_first p (has_access (slice_get p.types count)) (finalization_of p.types count)))

pub within : (types : List TypeForm) (t : ℕ) (f : Finalization) → finalization_of types t ≡ Some f → t < length types
within types t f is = elim (cases_lt t (length types)) [
  | inl less ↦ less
  | inr more ↦ absurd (cc (sym (ap finalization_in (slice_get_past types t more)) ∙ is))
]

split : (p : ProgramForm) (t : ℕ) (f : Finalization) (owns : Bool) (s : Spot) → finalization_of p.types t ≡ Some f → has_access (slice_get p.types t) ≡ owns →
    UnusedOf p owns f s → BeginsUnused p s
split p t f owns s at has (inl h) =
    let (b, found, begins) = h.1 in
    let (procedure, is, there) = overriding_there p f.operations.initialize b found in
    (procedure, b, there, inl ((t, f, at, is), sym (begun_as p f.operations.initialize procedure b is there) ∙ h.0), begins)
split p t f owns s at has (inr (inl h)) =
    let (b, found, begins) = h.1 in
    let (procedure, is, there) = overriding_there p f.operations.adjust b found in
    (procedure, b, there, inr (inl (owns, (t, f, at, is, has), sym (adjusted_as p owns f.operations.adjust procedure b is there) ∙ h.0)), begins)
split p t f owns s at has (inr (inr h)) =
    let (b, found, begins) = h.1 in
    let (procedure, is, there) = overriding_there p f.operations.finalize b found in
    (procedure, b, there, inr (inr ((t, f, at, is), sym (used_as p f.operations.finalize procedure b is there) ∙ h.0)), begins)

join : (p : ProgramForm) (procedure : ProcedureNo) (b : BodyForm) (s : Spot) → slice_get p.bodies procedure.0 ≡ Some b → b.start_spot ≡ s
    → IsUnused p procedure b →
    Below p (length p.types) s
join p procedure b s there begins (inl ((t, f, at, is), loud)) = (
  t,
  within p.types t f at,
  (f, at, inl (begun_as p f.operations.initialize procedure b is there ∙ loud, (b, body_there p f.operations.initialize procedure b is there, begins))),
)
join p procedure b s there begins (inr (inl (owns, (t, f, at, is, has), loud))) = (
  t,
  within p.types t f at,
  (
    f,
    at,
    inr (inl (
      ap (λ (o : Bool). uses_adjust p o f.operations.adjust) has ∙ adjusted_as p owns f.operations.adjust procedure b is there ∙ loud,
      (b, body_there p f.operations.adjust procedure b is there, begins),
    )),
  ),
)
join p procedure b s there begins (inr (inr ((t, f, at, is), loud))) = (
  t,
  within p.types t f at,
  (f, at, inr (inr (used_as p f.operations.finalize procedure b is there ∙ loud, (b, body_there p f.operations.finalize procedure b is there, begins)))),
)

pub below_all : (p : ProgramForm) (a : Option Spot) → IsFirst (Below p (length p.types)) a → IsFirst (BeginsUnused p) a
below_all p a f =
    same_first stands_before (Below p (length p.types)) (BeginsUnused p) (λ s h. split p h.0 h.2.0 (has_access (slice_get p.types h.0)) s h.2.1 refl h.2.2)
    (λ s h. join p h.0 h.1 s h.2 h.4 h.3) a f

-- Where all are in use there is none, and else there is one.

all_at : {X : Type 0} (q : X → Bool) (xs : List X) (t : ℕ) (x : X) → list_all q xs ≡ true → slice_get xs t ≡ Some x → q x ≡ true
all_at q [] t x h is = absurd (cc is)
all_at q (y ∷ ys) zero x h is = grind (arith, h, some_same is)
all_at q (y ∷ ys) (suc t) x h is = all_at q ys t x (grind (arith, h)) is

-- One that does not pass, at its number.
abbrev Missed : {X : Type 0} → (q : X → Bool) → List X → Type 0
Missed {X = X} q xs = (t : ℕ) × (x : X) × (slice_get xs t ≡ Some x) × (q x ≡ false)

missed_more : {X : Type 0} (q : X → Bool) (y : X) (ys : List X) → (b : Bool) → q y ≡ b → (list_all q ys ≡ false → Missed q ys) →
    (b && list_all q ys) ≡ false → Missed q (y ∷ ys)
missed_more q y ys false is later h = (0, y, refl, is)
missed_more q y ys true is later h = let (t, x, at, misses) = later h in (suc t, x, at, misses)

not_all : {X : Type 0} (q : X → Bool) (xs : List X) → list_all q xs ≡ false → Missed q xs
not_all q [] h = absurd (cc h)
not_all q (y ∷ ys) h = missed_more q y ys (q y) refl (not_all q ys) h

both : (a b : Bool) → (a && b) ≡ true → (a ≡ true) × (b ≡ true)
both true b h = (refl, h)
both false b h = absurd (cc h)

-- What holds of all types holds of one that stands at a number, and has controlled parts.
found_type : (p : ProgramForm) (fits : Option TypeForm → Bool) (t : ℕ) (f : Finalization) → finalization_of p.types t ≡ Some f → (o : Option TypeForm) →
    slice_get p.types t ≡ o → list_all (λ d. fits (Some d)) p.types ≡ true → fits o ≡ true
found_type p fits t f at None is all = absurd (cc (sym (ap finalization_in is) ∙ at))
found_type p fits t f at (Some d) is all = all_at (λ (d : TypeForm). fits (Some d)) p.types t d all is

-- Where all operations are quiet, those of a type are, and no body overrides its Adjust, if it declares a component of an access type.
abbrev is_quiet_type : ProgramForm → Option TypeForm → Bool
is_quiet_type p o = has_quiet_operations p (finalization_in o) && not (has_access o && is_some (adjust_body p (finalization_in o)))

quiet_found : (p : ProgramForm) → operations_are_quiet p ≡ true → (t : ℕ) (f : Finalization) → finalization_of p.types t ≡ Some f
    → has_quiet_operations p (Some f) ≡ true
quiet_found p all t f at =
    let type = slice_get p.types t in
    let fine = found_type p (is_quiet_type p) t f at type refl all in
    ap (has_quiet_operations p) (sym at)
    ∙ (both (has_quiet_operations p (finalization_in type)) (not (has_access type && is_some (adjust_body p (finalization_in type)))) fine).0

-- Where all are in use, those of a type are.
abbrev is_used_type : ProgramForm → Option TypeForm → Bool
is_used_type p o = uses_operations p (has_access o) (finalization_in o)

used_found : (p : ProgramForm) → operations_may_be_called p ≡ true → (t : ℕ) (f : Finalization) → finalization_of p.types t ≡ Some f →
    uses_operations p (has_access (slice_get p.types t)) (Some f) ≡ true
used_found p all t f at =
    ap (uses_operations p (has_access (slice_get p.types t))) (sym at) ∙ found_type p (is_used_type p) t f at (slice_get p.types t) refl all

-- A procedure is one of those that override the operations of a type (7.6).
abbrev pub IsAmong : Operations → (procedure : ProcedureNo) → Type 0
IsAmong operations procedure = (operations.initialize ≡ Some procedure) ⊎ ((operations.adjust ≡ Some procedure) ⊎ (operations.finalize ≡ Some procedure))

-- What overrides an operation is quiet where all of them are.
pub quiet_among : (p : ProgramForm) → operations_are_quiet p ≡ true → (t : ℕ) (f : Finalization) (procedure : ProcedureNo) (b : BodyForm) →
    finalization_of p.types t ≡ Some f → IsAmong f.operations procedure → slice_get p.bodies procedure.0 ≡ Some b → is_quiet_body p.types b ≡ true
quiet_among p all t f procedure b at is there = go is
  where
    quiet : (is_quiet_operation p f.operations.initialize && is_quiet_operation p f.operations.adjust && is_quiet_operation p f.operations.finalize) ≡ true
    quiet = quiet_found p all t f at

    two : ((is_quiet_operation p f.operations.initialize && is_quiet_operation p f.operations.adjust) ≡ true)
        × (is_quiet_operation p f.operations.finalize ≡ true)
    two = both (is_quiet_operation p f.operations.initialize && is_quiet_operation p f.operations.adjust) (is_quiet_operation p f.operations.finalize) quiet

    first : (is_quiet_operation p f.operations.initialize ≡ true) × (is_quiet_operation p f.operations.adjust ≡ true)
    first = both (is_quiet_operation p f.operations.initialize) (is_quiet_operation p f.operations.adjust) two.0

    go : IsAmong f.operations procedure → is_quiet_body p.types b ≡ true
    go (inl one) = sym (quiet_as p f.operations.initialize procedure b one there) ∙ first.0
    go (inr (inl one)) = sym (quiet_as p f.operations.adjust procedure b one there) ∙ first.1
    go (inr (inr one)) = sym (quiet_as p f.operations.finalize procedure b one there) ∙ two.1

-- Where all are in use, none begins that is not.
none_begins : (p : ProgramForm) (owns : Bool) (f : Finalization) → uses_operations p owns (Some f) ≡ true → (s : Spot) → ¬ (UnusedOf p owns f s)
none_begins p owns f used s = go
  where
    two : ((uses_initialize p f.operations.initialize && uses_adjust p owns f.operations.adjust) ≡ true) × (uses_finalize p f.operations.finalize ≡ true)
    two = both (uses_initialize p f.operations.initialize && uses_adjust p owns f.operations.adjust) (uses_finalize p f.operations.finalize) used

    first : (uses_initialize p f.operations.initialize ≡ true) × (uses_adjust p owns f.operations.adjust ≡ true)
    first = both (uses_initialize p f.operations.initialize) (uses_adjust p owns f.operations.adjust) two.0

    go : ¬ (UnusedOf p owns f s)
    go (inl h) = absurd (cc (sym first.0 ∙ h.0))
    go (inr (inl h)) = absurd (cc (sym first.1 ∙ h.0))
    go (inr (inr h)) = absurd (cc (sym two.1 ∙ h.0))

none_below : (p : ProgramForm) → operations_may_be_called p ≡ true → (s : Spot) → ¬ (Below p (length p.types) s)
none_below p all s h =
    let (f, at, one) = h.2 in
    none_begins p (has_access (slice_get p.types h.0)) f (used_found p all h.0 f at) s one

-- Where one is not in use, it is there.
body_of : (p : ProgramForm) (o : Option BodyForm) → (fits : Option BodyForm → Bool) → fits None ≡ true → fits o ≡ false → (b : BodyForm) × (o ≡ Some b)
body_of p None fits fine h = absurd (cc (sym fine ∙ h))
body_of p (Some b) fits fine h = (b, refl)

loud_begun : (p : ProgramForm) (o : Option ProcedureNo) → uses_initialize p o ≡ false → (b : BodyForm) × (operation_body p o ≡ Some b)
loud_begun p None h = absurd (cc h)
loud_begun p (Some procedure) h = body_of p (slice_get p.bodies procedure.0) (begun_procedure p procedure) refl h

last_true : (a b : Bool) → b ≡ true → (a || b) ≡ true
last_true true b h = refl
last_true false b h = h

none_adjusted : (p : ProgramForm) (owns : Bool) (procedure : ProcedureNo) → adjusted_procedure p owns procedure None ≡ true
none_adjusted p true procedure = last_true (adjusts_nothing p && is_frugal_operation p (Some procedure)) true refl
none_adjusted p false procedure = last_true (adjusts_nothing p && is_frugal_operation p (Some procedure)) true refl

loud_adjusted : (p : ProgramForm) (owns : Bool) (o : Option ProcedureNo) → uses_adjust p owns o ≡ false → (b : BodyForm) × (operation_body p o ≡ Some b)
loud_adjusted p true None h = absurd (cc (last_true (adjusts_nothing p && true) true refl, h))
loud_adjusted p false None h = absurd (cc (last_true (adjusts_nothing p && true) true refl, h))
loud_adjusted p owns (Some procedure) h = body_of p (slice_get p.bodies procedure.0) (adjusted_procedure p owns procedure) (none_adjusted p owns procedure) h

loud_used : (p : ProgramForm) (o : Option ProcedureNo) → uses_finalize p o ≡ false → (b : BodyForm) × (operation_body p o ≡ Some b)
loud_used p None h = absurd (cc h)
loud_used p (Some procedure) h = body_of p (slice_get p.bodies procedure.0) (used_procedure p procedure) refl h

-- Of three that are not all in use one is not.
unused_type : (p : ProgramForm) (owns : Bool) (o : Option Finalization) → uses_operations p owns o ≡ false → (s : Spot) × UnusedIn p owns o s
unused_type p owns None h = absurd (cc h)
unused_type p owns (Some f) h =
    go (uses_initialize p f.operations.initialize) (uses_adjust p owns f.operations.adjust) (uses_finalize p f.operations.finalize) refl refl refl h
  where
    go : (i a z : Bool) → uses_initialize p f.operations.initialize ≡ i → uses_adjust p owns f.operations.adjust ≡ a
        → uses_finalize p f.operations.finalize ≡ z →
        (i && a && z) ≡ false → (s : Spot) × UnusedIn p owns (Some f) s
    go false a z is _ _ h = let (b, at) = loud_begun p f.operations.initialize is in (b.start_spot, (f, refl, inl (is, (b, at, refl))))
    go true false z _ is _ h = let (b, at) = loud_adjusted p owns f.operations.adjust is in (b.start_spot, (f, refl, inr (inl (is, (b, at, refl)))))
    go true true false _ _ is h = let (b, at) = loud_used p f.operations.finalize is in (b.start_spot, (f, refl, inr (inr (is, (b, at, refl)))))
    go true true true _ _ _ h = absurd (cc h)

some_unused : (p : ProgramForm) → operations_may_be_called p ≡ false → (s : Spot) × BeginsUnused p s
some_unused p h =
    let (t, d, at, wrong) = not_all (λ (d : TypeForm). uses_operations p (has_access (Some d)) (finalization_in (Some d))) p.types h in
    let (s, own) = unused_type p (has_access (Some d)) (finalization_in (Some d)) wrong in
    (s, split p t own.0 (has_access (Some d)) s (ap finalization_in at ∙ own.1) (ap has_access at) own.2)

pub none_exactly : (p : ProgramForm) (a : Option Spot) → IsFirst (BeginsUnused p) a → (a ≡ None) ↔ (operations_may_be_called p ≡ true)
none_exactly p None f = (λ _. go (operations_may_be_called p) refl, λ _. refl)
  where
    go : (b : Bool) → operations_may_be_called p ≡ b → operations_may_be_called p ≡ true
    go true is = is
    go false is = let (s, h) = some_unused p is in absurd (f s h)
none_exactly p (Some s) f = (λ is. absurd (cc is), λ all. absurd (none_below p all s (join p f.0.0 f.0.1 s f.0.2 f.0.4 f.0.3)))

pub ruleset first_steps = (below_none, below_more, below_all, none_exactly)

-- Where operations are idle, there is none; else it is the first one that would not be in use.
pub idle_first : (p : ProgramForm) → operations_are_idle p ≡ true → IsFirst (HasUnused p) None
idle_first p idle s h = absurd (cc (sym idle ∙ h.0))

pub called_first : (p : ProgramForm) (a : Option Spot) → operations_are_idle p ≡ false → IsFirst (BeginsUnused p) a → IsFirst (HasUnused p) a
called_first p a called f = same_first stands_before (BeginsUnused p) (HasUnused p) (λ s h. (called, h)) (λ s h. h.1) a f

second : (a b : Bool) → a ≡ false → (a || b) ≡ b
second true b is = absurd (cc is)
second false b is = refl

pub called_used : (p : ProgramForm) (a : Option Spot) → operations_are_idle p ≡ false → ((a ≡ None) ↔ (operations_may_be_called p ≡ true))
    → (a ≡ None) ↔ (operations_are_in_use p ≡ true)
called_used p a called same =
    let is = second (operations_are_idle p) (operations_may_be_called p) called in
    (λ none. is ∙ same.0 none, λ all. same.1 (sym is ∙ all))

pub ruleset idle_steps = (idle_first, called_first, called_used)
