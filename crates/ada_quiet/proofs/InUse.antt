-- Operations that are quiet are in use.

use Rattle.std.proofs.Common.{◌≡◌, refl}
use Rattle.std.specs.Prelude.{Bool, true, false, not, ◌&&◌, ◌||◌, if◌then◌else◌, is_some, List, [], ◌∷◌, Option, Some, None}
use Rattle.std.specs.List.{list_all, slice_get}
use Rattle.ada_effects.specs.Effects.{no_calls, body_raises}
use Rattle.ada_program.specs.declared.program.Finalization.{Finalization}
use Rattle.ada_program.specs.declared.program.ProcedureNo.{ProcedureNo}
use Rattle.ada_program.specs.ProgramForm.{TypeForm, BodyForm, ProgramForm}
use Rattle.ada_program.specs.WellFormed.{finalization_in}
use Rattle.ada_quiet.specs.Quiet.{is_plain_body, is_quiet_body, is_plain_procedure, is_quiet_procedure, is_plain_operation, is_quiet_operation, has_quiet_operations, has_access, operation_body, adjust_body, adjusts_access, operations_are_quiet}
use Rattle.ada_quiet.specs.Frugal.{is_frugal_operation}
use Rattle.ada_quiet.specs.Simple.{is_simple_operation}
use Rattle.ada_quiet.specs.InUse.{adjusts_nothing, uses_called_adjust, may_adjust_frugally, may_be_frugal, may_track, uses_initialize, uses_adjust, uses_finalize, uses_operations, operations_are_idle, operations_may_be_called, operations_are_in_use}

-- Of two tests that both hold the first one holds, and so does the second one.
pub first_of_both : (a b : Bool) → (a && b) ≡ true → a ≡ true
first_of_both true b h = refl
first_of_both false b h = h

pub second_of_both : (a b : Bool) → (a && b) ≡ true → b ≡ true
second_of_both true b h = h
second_of_both false b h = absurd (cc h)

-- What does not hold is false.
pub not_true : (b : Bool) → not b ≡ true → b ≡ false
not_true true h = absurd (cc h)
not_true false h = refl

-- A quiet body is plain.
pub plain_body : (types : List TypeForm) (b : BodyForm) → is_quiet_body types b ≡ true → is_plain_body types b ≡ true
plain_body types b h = first_of_both (is_plain_body types b) (not (body_raises no_calls b (λ e. true))) h

pub plain_procedure : (types : List TypeForm) (o : Option BodyForm) → is_quiet_procedure types o ≡ true → is_plain_procedure types o ≡ true
plain_procedure types None h = refl
plain_procedure types (Some b) h = plain_body types b h

pub plain_operation : (p : ProgramForm) (o : Option ProcedureNo) → is_quiet_operation p o ≡ true → is_plain_operation p o ≡ true
plain_operation p None h = refl
plain_operation p (Some procedure) h = plain_procedure p.types (slice_get p.bodies procedure.0) h

-- A plain Initialize is in use, so is a quiet one, and so is a quiet Finalize.
either_first : (a b : Bool) → a ≡ true → (a || b) ≡ true
either_first true b h = refl
either_first false b h = absurd (cc h)

either_second : (a b : Bool) → b ≡ true → (a || b) ≡ true
either_second true b h = refl
either_second false b h = h

pub uses_plain_initialize : (p : ProgramForm) (o : Option ProcedureNo) → is_plain_operation p o ≡ true → uses_initialize p o ≡ true
uses_plain_initialize p o h = either_first (is_plain_operation p o) (may_be_frugal p && is_frugal_operation p o) h

pub uses_quiet_initialize : (p : ProgramForm) (o : Option ProcedureNo) → is_quiet_operation p o ≡ true → uses_initialize p o ≡ true
uses_quiet_initialize p o h = uses_plain_initialize p o (plain_operation p o h)

pub uses_quiet_finalize : (p : ProgramForm) (o : Option ProcedureNo) → is_quiet_operation p o ≡ true → uses_finalize p o ≡ true
uses_quiet_finalize p o h = either_first (is_quiet_operation p o) (may_be_frugal p && is_frugal_operation p o) h

-- A quiet Adjust is in use, but where it overrides that of a type which declares a component of an access type.
other_chosen : (which one other : Bool) → which ≡ false → other ≡ true → (if which then one else other) ≡ true
other_chosen true one other is h = absurd (cc is)
other_chosen false one other is h = h

pub uses_quiet_adjust : (p : ProgramForm) (owns : Bool) (o : Option ProcedureNo) → is_quiet_operation p o ≡ true
    → (owns && is_some (operation_body p o)) ≡ false →
    uses_adjust p owns o ≡ true
uses_quiet_adjust p owns o h none =
    either_second (adjusts_nothing p && is_frugal_operation p o) (uses_called_adjust p owns o)
    (other_chosen (owns && is_some (operation_body p o)) (may_track p && is_simple_operation p o)
    (is_quiet_operation p o || (may_adjust_frugally p && is_frugal_operation p o)) none
    (either_first (is_quiet_operation p o) (may_adjust_frugally p && is_frugal_operation p o) h))

-- Both of two tests may be replaced by what follows from them.
pub others : (a b c d : Bool) → (a ≡ true → c ≡ true) → (b ≡ true → d ≡ true) → (a && b) ≡ true → (c && d) ≡ true
others a b c d one other h = rw (one (first_of_both a b h)) (other (second_of_both a b h))

-- Quiet operations of a type are in use, where no body overrides Adjust of one that declares such a component.
pub uses_quiet : (p : ProgramForm) (owns : Bool) (f : Option Finalization) → has_quiet_operations p f ≡ true → (owns && is_some (adjust_body p f)) ≡ false →
    uses_operations p owns f ≡ true
uses_quiet p owns None h none = refl
uses_quiet p owns (Some f) h none =
    let initialize = is_quiet_operation p f.operations.initialize in
    let adjust = is_quiet_operation p f.operations.adjust in
    let finalize = is_quiet_operation p f.operations.finalize in
    others (initialize && adjust) finalize (uses_initialize p f.operations.initialize && uses_adjust p owns f.operations.adjust)
    (uses_finalize p f.operations.finalize)
    (others initialize adjust (uses_initialize p f.operations.initialize) (uses_adjust p owns f.operations.adjust)
    (uses_quiet_initialize p f.operations.initialize)
    (λ quiet. uses_quiet_adjust p owns f.operations.adjust quiet none))
    (uses_quiet_finalize p f.operations.finalize) h

used_in : (p : ProgramForm) (ts : List TypeForm) → list_all (λ t. has_quiet_operations p (finalization_in (Some t)) && not (adjusts_access p t)) ts ≡ true →
    list_all (λ t. uses_operations p (has_access (Some t)) (finalization_in (Some t))) ts ≡ true
used_in p [] h = refl
used_in p (t ∷ ts) h =
    let quiet = has_quiet_operations p (finalization_in (Some t)) in
    let leaves = not (adjusts_access p t) in
    let later = list_all (λ (d : TypeForm). has_quiet_operations p (finalization_in (Some d)) && not (adjusts_access p d)) ts in
    let both = first_of_both (quiet && leaves) later h in
    let none = not_true (adjusts_access p t) (second_of_both quiet leaves both) in
    rw (uses_quiet p (has_access (Some t)) (finalization_in (Some t)) (first_of_both quiet leaves both) none)
    (used_in p ts (second_of_both (quiet && leaves) later h))

-- Where all operations are quiet, all are in use.
pub quiet_in_use : (p : ProgramForm) → operations_are_quiet p ≡ true → operations_are_in_use p ≡ true
quiet_in_use p h = either_second (operations_are_idle p) (operations_may_be_called p) (used_in p p.types h)
