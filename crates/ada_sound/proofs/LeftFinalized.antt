-- Behind a block whose objects are finalized: aliases of what that may free are lost, its collections are gone, and so are its variables.

use Rattle.std.proofs.Common.{◌≡◌, ◌≢◌, ℕ, zero, suc, Bool, true, false, ◌||◌, not, List, [], ◌∷◌, ◌++◌, refl, sym, ap, ◌∙◌, ◌⊎◌, inl, inr}
use Rattle.std.specs.Prelude.{Option, Some, None, ◌&&◌}
use Rattle.std.specs.List.{slice_set}
use Rattle.ada_program.specs.Form.{DeclarationForm, creates_pool, collects, declares, declares_record}
use Rattle.ada_program.specs.ProgramForm.{VariableForm}
use Rattle.ada_program.specs.WellFormed.{access_of}
use Rattle.ada_effects.specs.Effects.{Implicit, endings_free, leaving_frees}
use Rattle.ada_flow.specs.declared.rule.Hold.{Hold}
use Rattle.ada_flow.specs.declared.rule.Hold.TheVariants as hold
use Rattle.ada_flow.specs.Flow.{Holds, hold_at, variable_access, if_own, is_among, is_freed, without_alias, without_freed, without_types, without_variables, collected, Gone, gone_with_both, left, left_finalized, gives_back, all_give_back, is_kept}
use Rattle.ada_owners.specs.Reliance.{Borrows}
use Rattle.ada_sound.proofs.Orderings.{AsGood, as_good_then, without_freed_good}
use Rattle.ada_sound.proofs.Values.{read_other, same_or_not, lost_here}
use Rattle.ada_sound.proofs.Leavings.{left_good, left_twice, left_losing, names_none}
use Rattle.ada_sound.proofs.Invariant.{NamesNone}

-- What is lost as an alias, by its type or as a variable is lost in either order.
alias_lost : (b : Bool) → without_alias b hold.Lost ≡ hold.Lost
alias_lost true = refl
alias_lost false = refl

alias_own : (b c : Bool) (h : Hold) → without_alias b (if_own c h) ≡ if_own c (without_alias b h)
alias_own b true h = refl
alias_own b false h = alias_lost b

alias_twice : (a b : Bool) (h : Hold) → without_alias b (without_alias a h) ≡ without_alias (a || b) h
alias_twice false b h = refl
alias_twice true b hold.Null = if_true b
  where
    if_true : (b : Bool) → without_alias b hold.Null ≡ hold.Null
    if_true true = refl
    if_true false = refl
alias_twice true b (hold.Kept r) = if_true b
  where
    if_true : (b : Bool) → without_alias b (hold.Kept r) ≡ hold.Kept r
    if_true true = refl
    if_true false = refl
alias_twice true b (hold.Own r) = if_true b
  where
    if_true : (b : Bool) → without_alias b (hold.Own r) ≡ hold.Own r
    if_true true = refl
    if_true false = refl
alias_twice true b (hold.Alias r) = alias_lost b
alias_twice true b hold.Lost = alias_lost b

freed_either : (a b : ℕ → Bool) (access : Option ℕ) → is_freed (λ t. a t || b t) access ≡ (is_freed a access || is_freed b access)
freed_either a b None = refl
freed_either a b (Some t) = refl

module _ (may : ℕ → Bool) where
  pub freed_apart : (variables : List VariableForm) (holds : Holds) (x : ℕ) → without_freed variables may (slice_set holds x hold.Lost) ≡ slice_set (without_freed variables may holds) x hold.Lost
  freed_apart [] holds x = refl
  freed_apart (v ∷ vs) [] x = refl
  freed_apart (v ∷ vs) (h ∷ hs) zero = ap (λ (g : Hold). g ∷ without_freed vs may hs) (alias_lost (is_freed may (access_of (Some v.kind))))
  freed_apart (v ∷ vs) (h ∷ hs) (suc x) = ap (λ (gs : Holds). without_alias (is_freed may (access_of (Some v.kind))) h ∷ gs) (freed_apart vs hs x)

  freed_variables : (variables : List VariableForm) (xs : List ℕ) (holds : Holds) → without_freed variables may (without_variables xs holds) ≡ without_variables xs (without_freed variables may holds)
  freed_variables variables [] holds = refl
  freed_variables variables (x ∷ xs) holds = freed_variables variables xs (slice_set holds x hold.Lost) ∙ ap (without_variables xs) (freed_apart variables holds x)

  freed_types : (variables : List VariableForm) (types : List ℕ) (holds : Holds) → without_freed variables may (without_types variables types holds) ≡ without_types variables types (without_freed variables may holds)
  freed_types [] types holds = refl
  freed_types (v ∷ vs) types [] = refl
  freed_types (v ∷ vs) types (h ∷ hs) =
      let b = is_freed may (access_of (Some v.kind)) in
      let c = not (is_among types (access_of (Some v.kind))) in
      rw (alias_own b c h, freed_types vs types hs) refl

  freed_left : (variables : List VariableForm) (gone : Gone) (holds : Holds) → without_freed variables may (left variables gone holds) ≡ left variables gone (without_freed variables may holds)
  freed_left variables gone holds = freed_variables variables gone.variables (without_types variables gone.types holds) ∙ ap (without_variables gone.variables) (freed_types variables gone.types holds)

freed_twice : (variables : List VariableForm) (a b : ℕ → Bool) (holds : Holds) → without_freed variables b (without_freed variables a holds) ≡ without_freed variables (λ t. a t || b t) holds
freed_twice [] a b holds = refl
freed_twice (v ∷ vs) a b [] = refl
freed_twice (v ∷ vs) a b (h ∷ hs) =
    let access = access_of (Some v.kind) in
    rw (alias_twice (is_freed a access) (is_freed b access) h, freed_either a b access, freed_twice vs a b hs) refl

freed_one : (a b : ℕ → Bool) → ((t : ℕ) → a t ≡ b t) → (access : Option ℕ) → is_freed a access ≡ is_freed b access
freed_one a b same None = refl
freed_one a b same (Some t) = same t

freed_same : (variables : List VariableForm) (a b : ℕ → Bool) → ((t : ℕ) → a t ≡ b t) → (holds : Holds) → without_freed variables a holds ≡ without_freed variables b holds
freed_same [] a b same holds = refl
freed_same (v ∷ vs) a b same [] = refl
freed_same (v ∷ vs) a b same (h ∷ hs) = rw (freed_one a b same (access_of (Some v.kind)), freed_same vs a b same hs) refl

-- Two blocks are left one after another.
endings_both : (implicit : Implicit) (ts us : List ℕ) (t : ℕ) → endings_free implicit (ts ++ us) t ≡ (endings_free implicit ts t || endings_free implicit us t)
endings_both implicit [] us t = refl
endings_both implicit (u ∷ ts) us t = by (implicit.end_frees u t) (endings_free implicit (ts ++ us) t) (endings_free implicit ts t) (endings_free implicit us t) (endings_both implicit ts us t)
  where
    by : (b c d e : Bool) → c ≡ (d || e) → (b || c) ≡ ((b || d) || e)
    by true c d e is = refl
    by false c d e is = is

pub finalized_twice : (variables : List VariableForm) (implicit : Implicit) (inner outer : Gone) (holds : Holds) → left_finalized variables implicit (gone_with_both inner outer) holds ≡ left_finalized variables implicit outer (left_finalized variables implicit inner holds)
finalized_twice variables implicit inner outer holds =
    let a = endings_free implicit inner.types in
    let b = endings_free implicit outer.types in
    let both = endings_free implicit (inner.types ++ outer.types) in
    let all = without_freed variables (λ t. a t || b t) holds in
    left_twice variables inner outer (without_freed variables both holds)
    ∙ (ap (λ (h : Holds). left variables outer (left variables inner h)) (freed_same variables both (λ t. a t || b t) (endings_both implicit inner.types outer.types) holds)
    ∙ (ap (λ (h : Holds). left variables outer (left variables inner h)) (sym (freed_twice variables a b holds))
    ∙ ap (left variables outer) (sym (freed_left b variables inner (without_freed variables a holds)))))

-- Less is known then.
pub finalized_good : (variables : List VariableForm) (implicit : Implicit) (gone : Gone) (holds : Holds) → AsGood holds (left_finalized variables implicit gone holds)
finalized_good variables implicit gone holds =
    let may = endings_free implicit gone.types in
    as_good_then holds (without_freed variables may holds) (left_finalized variables implicit gone holds) (without_freed_good variables may holds) (left_good variables gone (without_freed variables may holds))

-- It is as good where a variable is lost before whose record object goes with the block.
pub finalized_losing : (variables : List VariableForm) (implicit : Implicit) (gone : Gone) (holds : Holds) (x : ℕ) → is_among gone.types (variable_access variables x) ≡ true → AsGood (left_finalized variables implicit gone (slice_set holds x hold.Lost)) (left_finalized variables implicit gone holds)
finalized_losing variables implicit gone holds x among =
    let may = endings_free implicit gone.types in
    rw (freed_apart may variables holds x) (left_losing variables gone (without_freed variables may holds) x among)

-- No variable is relied on to name an object of a collection that is gone.
pub finalized_none : (variables : List VariableForm) (implicit : Implicit) (gone : Gone) (holds : Holds) → NamesNone variables gone.types (left_finalized variables implicit gone holds)
finalized_none variables implicit gone holds = names_none variables gone (without_freed variables (endings_free implicit gone.types) holds)

-- What a block does to a hold, whatever it is.
types_by : (variables : List VariableForm) (types : List ℕ) (x : ℕ) → (b : Bool) × ((holds : Holds) → hold_at (without_types variables types holds) x ≡ if_own b (hold_at holds x))
types_by [] types x = (false, λ holds. refl)
types_by (v ∷ vs) types zero = (not (is_among types (access_of (Some v.kind))), first)
  where
    lost : (b : Bool) → hold.Lost ≡ if_own b hold.Lost
    lost true = refl
    lost false = refl

    first : (holds : Holds) → hold_at (without_types (v ∷ vs) types holds) zero ≡ if_own (not (is_among types (access_of (Some v.kind)))) (hold_at holds zero)
    first [] = lost (not (is_among types (access_of (Some v.kind))))
    first (h ∷ hs) = refl
types_by (v ∷ vs) types (suc x) = later (types_by vs types x)
  where
    lost : (b : Bool) → hold.Lost ≡ if_own b hold.Lost
    lost true = refl
    lost false = refl

    later : (b : Bool) × ((holds : Holds) → hold_at (without_types vs types holds) x ≡ if_own b (hold_at holds x)) → (b : Bool) × ((holds : Holds) → hold_at (without_types (v ∷ vs) types holds) (suc x) ≡ if_own b (hold_at holds (suc x)))
    later (b, kept) = (b, on)
      where
        on : (holds : Holds) → hold_at (without_types (v ∷ vs) types holds) (suc x) ≡ if_own b (hold_at holds (suc x))
        on [] = lost b
        on (h ∷ hs) = kept hs

variables_by : (xs : List ℕ) (x : ℕ) → (b : Bool) × ((holds : Holds) → hold_at (without_variables xs holds) x ≡ if_own b (hold_at holds x))
variables_by [] x = (true, λ holds. refl)
variables_by (y ∷ ys) x = go (same_or_not x y) (variables_by ys x)
  where
    go : (x ≡ y) ⊎ (x ≢ y) → (b : Bool) × ((holds : Holds) → hold_at (without_variables ys holds) x ≡ if_own b (hold_at holds x)) → (b : Bool) × ((holds : Holds) → hold_at (without_variables ys (slice_set holds y hold.Lost)) x ≡ if_own b (hold_at holds x))
    go (inl same) (b, kept) = (false, λ holds. kept (slice_set holds y hold.Lost) ∙ (ap (if_own b) (rw same (lost_here holds y)) ∙ lost b))
      where
        lost : (b : Bool) → if_own b hold.Lost ≡ hold.Lost
        lost true = refl
        lost false = refl
    go (inr ne) (b, kept) = (b, λ holds. kept (slice_set holds y hold.Lost) ∙ ap (if_own b) (read_other holds y x hold.Lost hold.Lost ne))

own_both : (a b : Bool) (h : Hold) → if_own a (if_own b h) ≡ if_own (a && b) h
own_both true b h = refl
own_both false b h = refl

left_by : (variables : List VariableForm) (gone : Gone) (x : ℕ) → (b : Bool) × ((holds : Holds) → hold_at (left variables gone holds) x ≡ if_own b (hold_at holds x))
left_by variables gone x =
    let t = types_by variables gone.types x in
    let u = variables_by gone.variables x in
    (u.0 && t.0, λ holds. u.1 (without_types variables gone.types holds) ∙ (ap (if_own u.0) (t.1 holds) ∙ own_both u.0 t.0 (hold_at holds x)))

-- What gives something back, or is kept, is no alias: it stays, where it is a variable's.
abbrev Stays : Hold → Type 0
Stays h = (b : Bool) → without_alias b h ≡ h

gives_stays : (h : Hold) → gives_back h ≡ true → Stays h
gives_stays hold.Null e true = refl
gives_stays (hold.Kept r) e true = refl
gives_stays (hold.Own r) e true = refl
gives_stays (hold.Alias r) e b = absurd (cc e)
gives_stays hold.Lost e b = absurd (cc e)
gives_stays h e false = refl

kept_gives : (h : Hold) → is_kept h ≡ true → gives_back h ≡ true
kept_gives (hold.Kept r) e = refl
kept_gives hold.Null e = absurd (cc e)
kept_gives (hold.Own r) e = absurd (cc e)
kept_gives (hold.Alias r) e = absurd (cc e)
kept_gives hold.Lost e = absurd (cc e)

freed_at : (variables : List VariableForm) (may : ℕ → Bool) (types : List ℕ) (holds : Holds) (x : ℕ) → gives_back (hold_at (without_types variables types holds) x) ≡ true → (b : Bool) × (hold_at (without_freed variables may holds) x ≡ without_alias b (hold_at holds x))
freed_at [] may types holds x gives = absurd (cc gives)
freed_at (v ∷ vs) may types [] x gives = absurd (cc gives)
freed_at (v ∷ vs) may types (h ∷ hs) zero gives = (is_freed may (access_of (Some v.kind)), refl)
freed_at (v ∷ vs) may types (h ∷ hs) (suc x) gives = freed_at vs may types hs x gives

own_gives : (b : Bool) (h : Hold) → gives_back (if_own b h) ≡ true → (b ≡ true) × (gives_back h ≡ true)
own_gives true h e = (refl, e)
own_gives false h e = absurd (cc e)

both_true : (a b : Bool) → (a && b) ≡ true → (a ≡ true) × (b ≡ true)
both_true true b e = (refl, e)
both_true false b e = absurd (cc e)

-- So it does not matter for that whether objects are finalized as well.
pub finalized_at : (variables : List VariableForm) (implicit : Implicit) (gone : Gone) (holds : Holds) (x : ℕ) → gives_back (hold_at (left variables gone holds) x) ≡ true → hold_at (left_finalized variables implicit gone holds) x ≡ hold_at (left variables gone holds) x
finalized_at variables implicit gone holds x gives =
    let may = endings_free implicit gone.types in
    let l = left_by variables gone x in
    let two = own_gives l.0 (hold_at holds x) (rw (l.1 holds) at gives) in
    let u = variables_by gone.variables x in
    let typed = own_gives u.0 (hold_at (without_types variables gone.types holds) x) (rw (u.1 (without_types variables gone.types holds)) at gives) in
    let f = freed_at variables may gone.types holds x typed.1 in
    let same : hold_at (without_freed variables may holds) x ≡ hold_at holds x = f.1 ∙ gives_stays (hold_at holds x) two.1 f.0 in
    l.1 (without_freed variables may holds) ∙ (ap (if_own l.0) same ∙ sym (l.1 holds))

pub finalized_gives : (variables : List VariableForm) (implicit : Implicit) (gone : Gone) (owed : List ℕ) (holds : Holds) → all_give_back owed (left variables gone holds) ≡ true → all_give_back owed (left_finalized variables implicit gone holds) ≡ true
finalized_gives variables implicit gone [] holds all = refl
finalized_gives variables implicit gone (x ∷ xs) holds all =
    let two = both_true (gives_back (hold_at (left variables gone holds) x)) (all_give_back xs (left variables gone holds)) all in
    rw (finalized_at variables implicit gone holds x two.0, two.0) (finalized_gives variables implicit gone xs holds two.1)

pub finalized_keeps : (variables : List VariableForm) (implicit : Implicit) (gone : Gone) (holds : Holds) (x : ℕ) → is_kept (hold_at (left variables gone holds) x) ≡ true → is_kept (hold_at (left_finalized variables implicit gone holds) x) ≡ true
finalized_keeps variables implicit gone holds x kept = rw (finalized_at variables implicit gone holds x (kept_gives (hold_at (left variables gone holds) x) kept)) kept

-- Nor does it behind another block.
pub freed_gives : (variables : List VariableForm) (implicit : Implicit) (gone within : Gone) (owed : List ℕ) (holds : Holds) → all_give_back owed (left variables within (left variables gone holds)) ≡ true → all_give_back owed (left variables within (left_finalized variables implicit gone holds)) ≡ true
freed_gives variables implicit gone within [] holds all = refl
freed_gives variables implicit gone within (x ∷ xs) holds all =
    let two = both_true (gives_back (hold_at (left variables within (left variables gone holds)) x)) (all_give_back xs (left variables within (left variables gone holds))) all in
    let l = left_by variables within x in
    let inner = own_gives l.0 (hold_at (left variables gone holds) x) (rw (l.1 (left variables gone holds)) at two.0) in
    let one = finalized_at variables implicit gone holds x inner.1 in
    let same : hold_at (left variables within (left_finalized variables implicit gone holds)) x ≡ hold_at (left variables within (left variables gone holds)) x = l.1 (left_finalized variables implicit gone holds) ∙ (ap (if_own l.0) one ∙ sym (l.1 (left variables gone holds))) in
    rw (same, two.0) (freed_gives variables implicit gone within xs holds two.1)

-- No alias is left of what the finalization may free.
no_alias : (h : Hold) → Borrows (without_alias true h) → ⊥
no_alias hold.Null b = b
no_alias (hold.Kept r) b = b
no_alias (hold.Own r) b = b
no_alias (hold.Alias r) b = b
no_alias hold.Lost b = b

pub freed_none : (variables : List VariableForm) (may : ℕ → Bool) (holds : Holds) (x t : ℕ) → variable_access variables x ≡ Some t → may t ≡ true → Borrows (hold_at (without_freed variables may holds) x) → ⊥
freed_none [] may holds x t of is b = absurd (cc of)
freed_none (v ∷ vs) may [] x t of is b = b
freed_none (v ∷ vs) may (h ∷ holds) zero t of is b = no_alias h (rw (of, is) at b)
freed_none (v ∷ vs) may (h ∷ holds) (suc x) t of is b = freed_none vs may holds x t of is b

own_borrows : (b : Bool) (h : Hold) → Borrows (if_own b h) → Borrows h
own_borrows true h b = b
own_borrows false h b = absurd b

pub finalized_unaliased : (variables : List VariableForm) (implicit : Implicit) (gone : Gone) (holds : Holds) (x t : ℕ) → variable_access variables x ≡ Some t → endings_free implicit gone.types t ≡ true → Borrows (hold_at (left_finalized variables implicit gone holds) x) → ⊥
finalized_unaliased variables implicit gone holds x t of may b =
    let l = left_by variables gone x in
    freed_none variables (endings_free implicit gone.types) holds x t of may (own_borrows l.0 (hold_at (without_freed variables (endings_free implicit gone.types) holds) x) (rw (l.1 (without_freed variables (endings_free implicit gone.types) holds)) at b))

more_leave : (b c d : Bool) → (b || c) ≡ true → (c ≡ true → d ≡ true) → (b || d) ≡ true
more_leave true c d e more = refl
more_leave false c d e more = more e

-- What the end of what declarations create may free, the leaving of their master may.
pub endings_leave : (implicit : Implicit) (t : ℕ) (ds : List DeclarationForm) → endings_free implicit (collected ds) t ≡ true → leaving_frees implicit t ds ≡ true
endings_leave implicit t [] may = may
endings_leave implicit t (creates_pool p ∷ ds) may = endings_leave implicit t ds may
endings_leave implicit t (declares x right ∷ ds) may = endings_leave implicit t ds may
endings_leave implicit t (collects access ∷ ds) may = more_leave (implicit.end_frees access t) (endings_free implicit (collected ds) t) (leaving_frees implicit t ds) may (endings_leave implicit t ds)
endings_leave implicit t (declares_record x object initial ∷ ds) may = more_leave (implicit.end_frees object t) (endings_free implicit (collected ds) t) (leaving_frees implicit t ds) may (endings_leave implicit t ds)
