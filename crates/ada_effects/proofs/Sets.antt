-- Sets of exceptions: what joins them and leaves them, and what handlers take.

use Rattle.std.proofs.Common.{◌≡◌, ℕ, Bool, true, false, ◌||◌, ◌&&◌, not, ◌==◌, List, [], ◌∷◌, ◌++◌, Some, is_some, if◌then◌else◌, get_or, refl, ap, sym, ◌∙◌, inl, inr}
use Rattle.std.proofs.lemmas.Bool.{cases_Bool, or_parts}
use Rattle.std.proofs.Math.Bool.{or-true, or-false, and-true, and-false, or_assoc}
use Rattle.std.proofs.Math.Path.{fun_ext}
use Rattle.std.specs.Global.{Vec}
use Rattle.ada_effects.specs.declared.taken.Taken.{Taken}
use Rattle.ada_effects.specs.Effects.{untaken}
use Rattle.ada_effects.specs.Found.{left_of}
use Rattle.ada_effects.specs.Taken.{set_of, with_one, with_choice, with_choices, with_handlers, is_among, without, is_others, has_others, have_others}
use Rattle.ada_effects.proofs.Sameness.{are_equal}
use Rattle.ada_program.specs.declared.program.Choice.{Choice}
use Rattle.ada_program.specs.declared.program.Choice.TheVariants as choice
use Rattle.ada_program.specs.declared.program.Exception.{Exception}
use Rattle.ada_program.specs.declared.program.Exception.TheVariants.{ConstraintError, ProgramError, StorageError, EndError, Declared}
use Rattle.ada_program.specs.declared.program.ExceptionNo.{ExceptionNo}
use Rattle.ada_program.specs.Form.{StmtsForm, HandlersForm, no_handlers, a_handler}
use Rattle.ada_program.specs.Handling.{is_same, takes, some_takes, handler_of, is_taken}

-- Each flag of the code by the exception that it stands for.

pub holds_constraint_error : (t : Taken) → set_of t ConstraintError ≡ t.constraint_error
unfolding set_of
holds_constraint_error t = refl

pub holds_program_error : (t : Taken) → set_of t ProgramError ≡ t.program_error
unfolding set_of
holds_program_error t = refl

pub holds_storage_error : (t : Taken) → set_of t StorageError ≡ t.storage_error
unfolding set_of
holds_storage_error t = refl

pub holds_end_error : (t : Taken) → set_of t EndError ≡ t.end_error
unfolding set_of
holds_end_error t = refl

pub holds_declared : (t : Taken) (n : ExceptionNo) → set_of t (Declared n) ≡ get_or t.declared.items n.0 false
unfolding set_of
holds_declared t n = refl

pub ruleset flags = (holds_constraint_error, holds_program_error, holds_storage_error, holds_end_error, holds_declared)

-- Where no flag is set, the set is empty.
pub holds_nothing : (v : Vec Bool) → v.items ≡ [] → (e : Exception) →
    set_of (record { constraint_error = false; program_error = false; storage_error = false; end_error = false; declared = v }) e ≡ false
unfolding set_of
holds_nothing v h ConstraintError = refl
holds_nothing v h ProgramError = refl
holds_nothing v h StorageError = refl
holds_nothing v h EndError = refl
holds_nothing v h (Declared n) = ap (λ xs. get_or xs n.0 false) h

-- An exception joins the set by its flag.

pub constraint_error_joins : (t : Taken) → set_of (record t { constraint_error = true }) ≡ with_one ConstraintError (set_of t)
unfolding set_of with_one
constraint_error_joins t = fun_ext (λ e. elim e as (λ e. set_of (record t { constraint_error = true }) e ≡ (set_of t e || is_same e ConstraintError)) [
  | ConstraintError ↦ sym (or-true t.constraint_error)
  | ProgramError ↦ sym (or-false t.program_error)
  | StorageError ↦ sym (or-false t.storage_error)
  | EndError ↦ sym (or-false t.end_error)
  | Declared n ↦ sym (or-false (get_or t.declared.items n.0 false))
])

pub program_error_joins : (t : Taken) → set_of (record t { program_error = true }) ≡ with_one ProgramError (set_of t)
unfolding set_of with_one
program_error_joins t = fun_ext (λ e. elim e as (λ e. set_of (record t { program_error = true }) e ≡ (set_of t e || is_same e ProgramError)) [
  | ConstraintError ↦ sym (or-false t.constraint_error)
  | ProgramError ↦ sym (or-true t.program_error)
  | StorageError ↦ sym (or-false t.storage_error)
  | EndError ↦ sym (or-false t.end_error)
  | Declared n ↦ sym (or-false (get_or t.declared.items n.0 false))
])

pub storage_error_joins : (t : Taken) → set_of (record t { storage_error = true }) ≡ with_one StorageError (set_of t)
unfolding set_of with_one
storage_error_joins t = fun_ext (λ e. elim e as (λ e. set_of (record t { storage_error = true }) e ≡ (set_of t e || is_same e StorageError)) [
  | ConstraintError ↦ sym (or-false t.constraint_error)
  | ProgramError ↦ sym (or-false t.program_error)
  | StorageError ↦ sym (or-true t.storage_error)
  | EndError ↦ sym (or-false t.end_error)
  | Declared n ↦ sym (or-false (get_or t.declared.items n.0 false))
])

pub end_error_joins : (t : Taken) → set_of (record t { end_error = true }) ≡ with_one EndError (set_of t)
unfolding set_of with_one
end_error_joins t = fun_ext (λ e. elim e as (λ e. set_of (record t { end_error = true }) e ≡ (set_of t e || is_same e EndError)) [
  | ConstraintError ↦ sym (or-false t.constraint_error)
  | ProgramError ↦ sym (or-false t.program_error)
  | StorageError ↦ sym (or-false t.storage_error)
  | EndError ↦ sym (or-true t.end_error)
  | Declared n ↦ sym (or-false (get_or t.declared.items n.0 false))
])

pub declared_joins : (t : Taken) (v : Vec Bool) (n : ExceptionNo) → ((m : ℕ) → get_or v.items m false ≡ (get_or t.declared.items m false || (m == n.0))) →
    set_of (record t { declared = v }) ≡ with_one (Declared n) (set_of t)
unfolding set_of with_one
declared_joins t v n h = fun_ext (λ e. elim e as (λ e. set_of (record t { declared = v }) e ≡ (set_of t e || is_same e (Declared n))) [
  | ConstraintError ↦ sym (or-false t.constraint_error)
  | ProgramError ↦ sym (or-false t.program_error)
  | StorageError ↦ sym (or-false t.storage_error)
  | EndError ↦ sym (or-false t.end_error)
  | Declared m ↦ h m.0
])

pub declared_stay : (t : Taken) (v : Vec Bool) → ((m : ℕ) → get_or v.items m false ≡ get_or t.declared.items m false) → set_of (record t { declared = v }) ≡ set_of t
unfolding set_of
declared_stay t v h = fun_ext (λ e. elim e as (λ e. set_of (record t { declared = v }) e ≡ set_of t e) [
  | ConstraintError ↦ refl
  | ProgramError ↦ refl
  | StorageError ↦ refl
  | EndError ↦ refl
  | Declared m ↦ h m.0
])

-- An exception leaves the set by its flag.

left_alone : (b : Bool) → b ≡ (b && not (false || false))
left_alone b = sym (and-true b)

left_out : (b : Bool) → false ≡ (b && not (true || false))
left_out b = sym (and-false b)

pub constraint_error_leaves : (t : Taken) → set_of (record t { constraint_error = false }) ≡ without (ConstraintError ∷ []) (set_of t)
unfolding set_of without
constraint_error_leaves t = fun_ext (λ e. elim e as (λ e. set_of (record t { constraint_error = false }) e ≡ (set_of t e && not (is_among e (ConstraintError ∷ [])))) [
  | ConstraintError ↦ left_out t.constraint_error
  | ProgramError ↦ left_alone t.program_error
  | StorageError ↦ left_alone t.storage_error
  | EndError ↦ left_alone t.end_error
  | Declared n ↦ left_alone (get_or t.declared.items n.0 false)
])

pub program_error_leaves : (t : Taken) → set_of (record t { program_error = false }) ≡ without (ProgramError ∷ []) (set_of t)
unfolding set_of without
program_error_leaves t = fun_ext (λ e. elim e as (λ e. set_of (record t { program_error = false }) e ≡ (set_of t e && not (is_among e (ProgramError ∷ [])))) [
  | ConstraintError ↦ left_alone t.constraint_error
  | ProgramError ↦ left_out t.program_error
  | StorageError ↦ left_alone t.storage_error
  | EndError ↦ left_alone t.end_error
  | Declared n ↦ left_alone (get_or t.declared.items n.0 false)
])

pub storage_error_leaves : (t : Taken) → set_of (record t { storage_error = false }) ≡ without (StorageError ∷ []) (set_of t)
unfolding set_of without
storage_error_leaves t = fun_ext (λ e. elim e as (λ e. set_of (record t { storage_error = false }) e ≡ (set_of t e && not (is_among e (StorageError ∷ [])))) [
  | ConstraintError ↦ left_alone t.constraint_error
  | ProgramError ↦ left_alone t.program_error
  | StorageError ↦ left_out t.storage_error
  | EndError ↦ left_alone t.end_error
  | Declared n ↦ left_alone (get_or t.declared.items n.0 false)
])

pub end_error_leaves : (t : Taken) → set_of (record t { end_error = false }) ≡ without (EndError ∷ []) (set_of t)
unfolding set_of without
end_error_leaves t = fun_ext (λ e. elim e as (λ e. set_of (record t { end_error = false }) e ≡ (set_of t e && not (is_among e (EndError ∷ [])))) [
  | ConstraintError ↦ left_alone t.constraint_error
  | ProgramError ↦ left_alone t.program_error
  | StorageError ↦ left_alone t.storage_error
  | EndError ↦ left_out t.end_error
  | Declared n ↦ left_alone (get_or t.declared.items n.0 false)
])

pub declared_leaves : (t : Taken) (v : Vec Bool) (n : ExceptionNo) → ((m : ℕ) → get_or v.items m false ≡ (get_or t.declared.items m false && not (m == n.0))) →
    set_of (record t { declared = v }) ≡ without (Declared n ∷ []) (set_of t)
unfolding set_of without
declared_leaves t v n h = fun_ext (λ e. elim e as (λ e. set_of (record t { declared = v }) e ≡ (set_of t e && not (is_among e (Declared n ∷ [])))) [
  | ConstraintError ↦ left_alone t.constraint_error
  | ProgramError ↦ left_alone t.program_error
  | StorageError ↦ left_alone t.storage_error
  | EndError ↦ left_alone t.end_error
  | Declared m ↦ h m.0 ∙ ap (λ b. get_or t.declared.items m.0 false && not b) (sym (or-false (m.0 == n.0)))
])

-- Lists of exceptions leave a set.

pub without_none : (s : Exception → Bool) → without [] s ≡ s
unfolding without
without_none s = fun_ext (λ e. and-true (s e))

leave_in_turn : (a b c : Bool) → (a && not (b || c)) ≡ ((a && not (b || false)) && not c)
leave_in_turn false b c = refl
leave_in_turn true true c = refl
leave_in_turn true false c = refl

-- The first one leaves, and then the others.
pub without_more : (f : Exception) (fs : List Exception) (s : Exception → Bool) → without (f ∷ fs) s ≡ without fs (without (f ∷ []) s)
unfolding without
without_more f fs s = fun_ext (λ e. leave_in_turn (s e) (is_same e f) (is_among e fs))

-- What is in the set already joins it without a change.
pub joins_again : (e : Exception) (s : Exception → Bool) → s e ≡ true → s ≡ with_one e s
unfolding with_one
joins_again e s h = fun_ext (λ f. elim (cases_Bool (is_same f e)) [
  | inl same ↦ ap s (are_equal f e same) ∙ h ∙ sym (ap (λ b. s f || b) same ∙ or-true (s f))
  | inr other ↦ sym (ap (λ b. s f || b) other ∙ or-false (s f))
])

pub among_more : (e : Exception) (fs gs : List Exception) → is_among e (fs ++ gs) ≡ (is_among e fs || is_among e gs)
among_more e [] gs = refl
among_more e (f ∷ fs) gs = ap (λ b. is_same e f || b) (among_more e fs gs) ∙ sym (or_assoc (is_same e f) (is_among e fs) (is_among e gs))

out_again : (a b c : Bool) → (b ≡ true → a ≡ false) → ((a || b) && not (c || (b || false))) ≡ (a && not c)
out_again a true true h = ap (λ x. (x || true) && false) (h refl) ∙ sym (ap (λ x. x && false) (h refl))
out_again a true false h = ap (λ x. (x || true) && false) (h refl) ∙ sym (ap (λ x. x && true) (h refl))
out_again a false true h = and-false (a || false) ∙ sym (and-false a)
out_again a false false h = ap (λ x. x && true) (or-false a)

-- What was not in the set joins it, and leaves it with those of the list.
pub joins_and_leaves : (e : Exception) (fs : List Exception) (s : Exception → Bool) → s e ≡ false →
    without (fs ++ (e ∷ [])) (with_one e s) ≡ without fs s
unfolding without with_one
joins_and_leaves e fs s h = fun_ext (λ f.
    ap (λ b. (s f || is_same f e) && not b) (among_more f fs (e ∷ [])) ∙
    out_again (s f) (is_same f e) (is_among f fs) (λ same. ap s (are_equal f e same) ∙ h))

-- What choices and handlers take.

chosen : (c : Choice) (s : Exception → Bool) (e : Exception) → is_others c ≡ false → with_choice c s e ≡ (s e || takes e c)
unfolding with_one
chosen (choice.Exception f) s e h = refl
chosen choice.Others s e h = cc

all_chosen : (cs : List Choice) (s : Exception → Bool) (e : Exception) → has_others cs ≡ false → with_choices cs s e ≡ (s e || some_takes e cs)
all_chosen [] s e h = sym (or-false (s e))
all_chosen (c ∷ cs) s e h =
    let parts = or_parts (is_others c) (has_others cs) h in
    all_chosen cs (with_choice c s) e parts.1 ∙ ap (λ b. b || some_takes e cs) (chosen c s e parts.0) ∙ or_assoc (s e) (takes e c) (some_takes e cs)

-- The first handler takes an exception, or one behind it does.
pub first_or_later : (e : Exception) (cs : List Choice) (fs : StmtsForm) (hs : HandlersForm) → is_taken (a_handler cs fs hs) e ≡ (some_takes e cs || is_taken hs e)
first_or_later e cs fs hs =
    elim (some_takes e cs) as (λ b. is_some (if b then Some fs else handler_of e hs) ≡ (b || is_some (handler_of e hs))) [ true ↦ refl | false ↦ refl ]

-- Without `others`, handlers take what they name.
pub all_handled : (hs : HandlersForm) (s : Exception → Bool) (e : Exception) → have_others hs ≡ false → with_handlers hs s e ≡ (s e || is_taken hs e)
all_handled no_handlers s e h = sym (or-false (s e))
all_handled (a_handler cs fs hs) s e h =
    let parts = or_parts (has_others cs) (have_others hs) h in
    all_handled hs (with_choices cs s) e parts.1 ∙
    ap (λ b. b || is_taken hs e) (all_chosen cs s e parts.0) ∙
    or_assoc (s e) (some_takes e cs) (is_taken hs e) ∙
    ap (λ b. s e || b) (sym (first_or_later e cs fs hs))

others_chosen : (cs : List Choice) (e : Exception) → has_others cs ≡ true → some_takes e cs ≡ true
others_chosen [] e h = cc
others_chosen (choice.Others ∷ cs) e h = refl
others_chosen (choice.Exception f ∷ cs) e h = ap (λ b. is_same e f || b) (others_chosen cs e h) ∙ or-true (is_same e f)

-- With `others`, they take every exception.
pub others_take : (hs : HandlersForm) (e : Exception) → have_others hs ≡ true → is_taken hs e ≡ true
others_take no_handlers e h = cc
others_take (a_handler cs fs hs) e h = first_or_later e cs fs hs ∙ elim (cases_Bool (has_others cs)) [
  | inl has ↦ ap (λ b. b || is_taken hs e) (others_chosen cs e has)
  | inr not_here ↦ ap (λ b. some_takes e cs || b) (others_take hs e (sym (ap (λ b. b || have_others hs) not_here) ∙ h)) ∙ or-true (some_takes e cs)
]

not_again : (a b c : Bool) → (a && not (b || c)) ≡ ((a && not b) && not c)
not_again false b c = refl
not_again true true c = refl
not_again true false c = refl

-- What is left where the handlers take besides is what they leave of what was left before.
pub left_of_handled : (hs : HandlersForm) (s p : Exception → Bool) → have_others hs ≡ false → left_of (with_handlers hs s) p ≡ untaken hs (left_of s p)
unfolding left_of
left_of_handled hs s p h = fun_ext (λ e. ap (λ b. p e && not b) (all_handled hs s e h) ∙ not_again (p e) (s e) (is_taken hs e))

-- With `others` they leave nothing.
pub nothing_left : (hs : HandlersForm) (s : Exception → Bool) (e : Exception) → have_others hs ≡ true → untaken hs s e ≡ false
nothing_left hs s e h = ap (λ b. s e && not b) (others_take hs e h) ∙ and-false (s e)

-- Of what is left where nothing is taken, they leave what they do not take.
pub left_of_none : (hs : HandlersForm) (s : Exception → Bool) → ((e : Exception) → s e ≡ false) → untaken hs (left_of s (λ e. true)) ≡ (λ e. not (is_taken hs e))
unfolding left_of
left_of_none hs s h = fun_ext (λ e. ap (λ b. (true && not b) && not (is_taken hs e)) (h e))

-- Where nothing is taken, all is left.
pub left_of_all : (s p : Exception → Bool) → ((e : Exception) → s e ≡ false) → left_of s p ≡ p
unfolding left_of
left_of_all s p h = fun_ext (λ e. ap (λ b. p e && not b) (h e) ∙ and-true (p e))

-- How the code's steps change a set.
pub ruleset each_flag = (constraint_error_joins, program_error_joins, storage_error_joins, end_error_joins, declared_joins, declared_stay, constraint_error_leaves, program_error_leaves, storage_error_leaves, end_error_leaves, declared_leaves)

pub ruleset joining = (without_none, without_more, joins_again, joins_and_leaves)
