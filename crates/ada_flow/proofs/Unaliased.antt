-- What is lost where objects of some access types may be gone: every alias of these types.

use Rattle.std.proofs.Common.{◌≡◌, ℕ, ◌+◌, ◌<◌, Bool, true, false, ◌||◌, ◌==◌, List, [], ◌∷◌, get_or, length, take, drop, map, Option, Some, None, refl, sym, ap, ◌∙◌, add-one, inl, inr}
use Rattle.std.proofs.lemmas.Bool.{cases_Bool, eqb-true, eqb-false, eq-eqb, ne_eqb}
use Rattle.std.proofs.Math.Path.{fun_ext}
use Rattle.std.proofs.Math.Seq.{drop-cons}
use Rattle.std.specs.Bool.{IsTrue}
use Rattle.std.specs.List.{list_any}
use Rattle.ada_effects.specs.Found.{has_number}
use Rattle.ada_program.specs.declared.program.TypeNo.{TypeNo}
use Rattle.ada_program.specs.declared.program.Variable.{Variable}
use Rattle.ada_program.specs.ProgramForm.{VariableForm, variable_form}
use Rattle.ada_program.specs.WellFormed.{access_of}
use Rattle.ada_flow.specs.Aliases.{is_alias, tells_aliases}
use Rattle.ada_flow.specs.declared.marks.Marks.{Marks}
use Rattle.ada_flow.specs.declared.rule.Hold.{Hold}
use Rattle.ada_flow.specs.declared.rule.Hold.TheVariants.{Null, Kept, Own, Alias, Lost}
use Rattle.ada_flow.specs.Flow.{Holds, is_among, is_freed, without_alias, without_freed}
use Rattle.ada_flow.specs.Told.{AreMarks, is_marked, marked_types, type_number}
use Rattle.ada_flow.proofs.Aliased.{own_kept, first_not, second_not, not_so, told_of_take, told_of_itself}

-- a type that is marked
pub freed_is_marked : (marks : Marks) (access : Option ℕ) → is_freed (marked_types marks) access ≡ is_marked marks access
freed_is_marked marks None = refl
freed_is_marked marks (Some t) = refl

-- what is held beyond the variables is left out
pub freed_short : (vs : List Variable) (may : ℕ → Bool) (hs : Holds) →
    without_freed (map variable_form vs) may (take (length vs) hs) ≡ without_freed (map variable_form vs) may hs
freed_short [] may hs = refl
freed_short (v ∷ vs) may [] = refl
freed_short (v ∷ vs) may (h ∷ hs) = ap (λ rest. without_alias (is_freed may (access_of (Some v.kind))) h ∷ rest) (freed_short vs may hs)

-- where nothing is held, nothing is left
pub freed_of_nothing : (vs : List Variable) (may : ℕ → Bool) → without_freed (map variable_form vs) may [] ≡ []
freed_of_nothing [] may = refl
freed_of_nothing (v ∷ vs) may = refl

-- variable by variable
pub freed_next : (vs : List Variable) (marks : Marks) (hs : Holds) (i : ℕ) (v : Variable) (h : Hold) → i < length vs → i < length hs →
    without_freed (map variable_form (drop i vs)) (marked_types marks) (drop i hs)
    ≡ without_alias (is_marked marks (access_of (Some (get_or vs i v).kind))) (get_or hs i h)
    ∷ without_freed (map variable_form (drop (i + 1) vs)) (marked_types marks) (drop (i + 1) hs)
freed_next vs marks hs i v h a b =
    (rw (add-one, drop-cons vs i v, drop-cons hs i h) refl)
    ∙ ap (λ (b : Bool). without_alias b (get_or hs i h) ∷ without_freed (map variable_form (drop (i + 1) vs)) (marked_types marks) (drop (i + 1) hs))
    (freed_is_marked marks (access_of (Some (get_or vs i v).kind)))

pub ruleset losing_steps = (freed_short, freed_of_nothing, freed_next)

same_number : (n m : ℕ) → (n == m) ≡ (m == n)
same_number n m = elim (cases_Bool (n == m)) [
  | inl e ↦ e ∙ sym (eq-eqb m n (sym (eqb-true n m e)))
  | inr e ↦ e ∙ sym (ne_eqb m n (λ h. eqb-false n m e (sym h)))
]

-- a number among types
among_number : (xs : List TypeNo) (t : ℕ) → is_among (map type_number xs) (Some t) ≡ has_number xs t
among_number [] t = refl
among_number (x ∷ xs) t = ap (λ b. b || is_among (map type_number xs) (Some t)) (same_number t x.0) ∙ ap (λ b. (x.0 == t) || b) (among_number xs t)

-- marked types are those that are freed
pub freed_by_marks : (vs : List VariableForm) (marks : Marks) (xs : List TypeNo) (hs : Holds) → AreMarks marks (map type_number xs) →
    without_freed vs (marked_types marks) hs ≡ without_freed vs (has_number xs) hs
freed_by_marks vs marks xs hs are = ap (λ (may : ℕ → Bool). without_freed vs may hs) (fun_ext (λ t. are t ∙ among_number xs t))

-- objects of some types may be gone, and then of others
alias_twice : (a b : Bool) (h : Hold) → without_alias b (without_alias a h) ≡ without_alias (a || b) h
alias_twice false b h = refl
alias_twice true false Null = refl
alias_twice true false (Kept r) = refl
alias_twice true false (Own r) = refl
alias_twice true false (Alias r) = refl
alias_twice true false Lost = refl
alias_twice true true Null = refl
alias_twice true true (Kept r) = refl
alias_twice true true (Own r) = refl
alias_twice true true (Alias r) = refl
alias_twice true true Lost = refl

either_is_freed : (may might : ℕ → Bool) (access : Option ℕ) → (is_freed may access || is_freed might access) ≡ is_freed (λ t. may t || might t) access
either_is_freed may might None = refl
either_is_freed may might (Some t) = refl

pub freed_twice : (vs : List VariableForm) (may might : ℕ → Bool) (hs : Holds) →
    without_freed vs might (without_freed vs may hs) ≡ without_freed vs (λ t. may t || might t) hs
freed_twice [] may might hs = refl
freed_twice (v ∷ vs) may might [] = refl
freed_twice (v ∷ vs) may might (h ∷ hs) =
    ap (λ (g : Hold). g ∷ without_freed vs might (without_freed vs may hs))
    (alias_twice (is_freed may (access_of (Some v.kind))) (is_freed might (access_of (Some v.kind))) h
    ∙ ap (λ (b : Bool). without_alias b h) (either_is_freed may might (access_of (Some v.kind))))
    ∙ ap (λ (rest : Holds). without_alias (is_freed (λ t. may t || might t) (access_of (Some v.kind))) h ∷ rest) (freed_twice vs may might hs)

-- what holds no alias loses none
none_freed : (vs : List Variable) (may : ℕ → Bool) (hs : Holds) → list_any is_alias hs ≡ false →
    take (length vs) hs ≡ without_freed (map variable_form vs) may hs
none_freed [] may hs none = refl
none_freed (v ∷ vs) may [] none = refl
none_freed (v ∷ vs) may (h ∷ hs) none =
    ap (λ (g : Hold). g ∷ take (length vs) hs) (own_kept (is_freed may (access_of (Some v.kind))) h (first_not (is_alias h) (list_any is_alias hs) none))
    ∙ ap (λ (rest : Holds). without_alias (is_freed may (access_of (Some v.kind))) h ∷ rest)
    (none_freed vs may hs (second_not (is_alias h) (list_any is_alias hs) none))

pub aliases_stay : (vs : List Variable) (may : ℕ → Bool) (hs : Holds) → IsTrue (tells_aliases false hs) →
    take (length vs) hs ≡ without_freed (map variable_form vs) may hs
aliases_stay vs may hs told = none_freed vs may hs (not_so (list_any is_alias hs) told)

-- and so does all where no type is one of those that are freed
none_is_freed : (may : ℕ → Bool) (access : Option ℕ) → ((t : ℕ) → may t ≡ false) → is_freed may access ≡ false
none_is_freed may None none = refl
none_is_freed may (Some t) none = none t

pub all_stays : (vs : List Variable) (may : ℕ → Bool) (hs : Holds) → ((t : ℕ) → may t ≡ false) → take (length vs) hs ≡ without_freed (map variable_form vs) may hs
all_stays [] may hs none = refl
all_stays (v ∷ vs) may [] none = refl
all_stays (v ∷ vs) may (h ∷ hs) none =
    ap (λ (b : Bool). without_alias b h ∷ take (length vs) hs) (sym (none_is_freed may (access_of (Some v.kind)) none))
    ∙ ap (λ (rest : Holds). without_alias (is_freed may (access_of (Some v.kind))) h ∷ rest) (all_stays vs may hs none)

pub ruleset freeing_steps = (aliases_stay, all_stays, freed_by_marks, told_of_take, told_of_itself)
