-- What is found besides, where all deeds that are no exceptions are sought.

use Rattle.std.proofs.Common.{◌≡◌, ℕ, ◌==◌, Bool, true, false, ◌||◌, List, [], ◌∷◌, ◌++◌, refl, sym, ap, ◌∙◌, subst}
use Rattle.std.proofs.lemmas.List.Folds.{list_any-append}
use Rattle.std.specs.Global.{Vec}
use Rattle.std.specs.List.{list_any}
use Rattle.std.specs.Prelude.{Option, Some, Result, Ok, Err}
use Rattle.std.specs.declared.alloc.AllocError.{AllocError}
use Rattle.ada_deeds.specs.Forms.{evaluation_does, allocation_does, freeing_does}
use Rattle.ada_deeds.specs.View.{sought, does_itself, does_found, Finds, Lists}
use Rattle.ada_deeds.specs.declared.deed.Callee.{Callee}
use Rattle.ada_deeds.specs.declared.deed.Deed.{Deed}
use Rattle.ada_deeds.specs.declared.deed.Deed.TheVariants as deed
use Rattle.ada_deeds.specs.declared.found.Found.{Found}
use Rattle.ada_deeds.specs.declared.search.Search.{Search}
use Rattle.ada_deeds.specs.declared.search.Search.TheVariants as search
use Rattle.ada_effects.specs.Found.{has_number}
use Rattle.ada_program.specs.declared.program.TypeNo.{TypeNo}

no_more : (b : Bool) → b ≡ (b || false)
no_more true = refl
no_more false = refl

to_the_end : (a b c : Bool) → ((a || b) || c) ≡ ((a || c) || b)
to_the_end true b c = refl
to_the_end false true true = refl
to_the_end false true false = refl
to_the_end false false true = refl
to_the_end false false false = refl

yes_at_last : (b : Bool) → true ≡ (b || true)
yes_at_last true = refl
yes_at_last false = refl

-- Nothing is found yet.
pub nothing_found : (f : Found) → f.itself ≡ false → f.freed.items ≡ [] → f.followed.items ≡ [] → f.callees.items ≡ [] → (d : Deed) (known : Callee → Bool) → does_found f d known ≡ false
unfolding does_found
nothing_found f mark freed followed callees d known =
    ap (λ b. does_itself b f.freed.items f.followed.items d || list_any known f.callees.items) mark ∙
    ap (λ (xs : List TypeNo). does_itself false xs f.followed.items d || list_any known f.callees.items) freed ∙
    ap (λ (xs : List TypeNo). does_itself false [] xs d || list_any known f.callees.items) followed ∙
    ap (λ (cs : List Callee). does_itself false [] [] d || list_any known cs) callees ∙ none d
  where
    none : (d : Deed) → (does_itself false [] [] d || false) ≡ false
    none (deed.Raises e) = refl
    none (deed.Frees t) = refl
    none (deed.Follows t) = refl
    none deed.Allocates = refl
    none deed.Calls = refl

-- More access types are followed.

abbrev with_followed : Found → Vec TypeNo → Found
with_followed f v = record { itself = f.itself; freed = f.freed; followed = v; callees = f.callees }

followed : (f : Found) (v : Vec TypeNo) (fails : Bool) (among : ℕ → Bool) → ((t : ℕ) → has_number v.items t ≡ (has_number f.followed.items t || among t)) →
    (d : Deed) (known : Callee → Bool) →
    does_found (with_followed f v) (sought search.Others d) known ≡ (does_found f (sought search.Others d) known || evaluation_does (sought search.Others d) fails among)
unfolding does_found
followed f v fails among more (deed.Raises e) known = no_more (f.itself || list_any known f.callees.items)
followed f v fails among more (deed.Frees t) known = no_more (has_number f.freed.items t.0 || list_any known f.callees.items)
followed f v fails among more (deed.Follows t) known =
    ap (λ b. b || list_any known f.callees.items) (more t.0) ∙ to_the_end (has_number f.followed.items t.0) (among t.0) (list_any known f.callees.items)
followed f v fails among more deed.Allocates known = no_more (f.itself || list_any known f.callees.items)
followed f v fails among more deed.Calls known = no_more (list_any known f.callees.items)

pub finds_followed : {X : Type 0} (r : Result X AllocError) (s : Search) (f : Found) (v : Vec TypeNo) (fails : Bool) (among : ℕ → Bool) → s ≡ search.Others →
    Lists r f.followed.items v.items among → Finds r s f (with_followed f v) (λ d known. evaluation_does d fails among)
finds_followed {X} (Ok u) s f v fails among is more =
    subst (λ (x : Search). (d : Deed) (known : Callee → Bool) → does_found (with_followed f v) (sought x d) known ≡ (does_found f (sought x d) known || evaluation_does (sought x d) fails among)) (sym is)
    (followed f v fails among more)
finds_followed (Err e) s f v fails among is more = more

-- Objects of one more access type are freed.

abbrev with_freed : Found → Vec TypeNo → Found
with_freed f v = record { itself = f.itself; freed = v; followed = f.followed; callees = f.callees }

one_freed : (f : Found) (v : Vec TypeNo) (t : ℕ) → v.items ≡ f.freed.items ++ record { 0 = t } ∷ [] → (d : Deed) (known : Callee → Bool) →
    does_found (with_freed f v) (sought search.Others d) known ≡ (does_found f (sought search.Others d) known || freeing_does (sought search.Others d) (Some t))
unfolding does_found
one_freed f v t is (deed.Raises e) known = no_more (f.itself || list_any known f.callees.items)
one_freed f v t is (deed.Frees u) known =
    ap (λ b. b || list_any known f.callees.items) (more u.0) ∙ to_the_end (has_number f.freed.items u.0) (t == u.0) (list_any known f.callees.items)
  where
    more : (n : ℕ) → has_number v.items n ≡ (has_number f.freed.items n || (t == n))
    more n =
        ap (λ (xs : List TypeNo). has_number xs n) is ∙ list_any-append (λ (x : TypeNo). x.0 == n) f.freed.items (record { 0 = t } ∷ []) ∙
        ap (λ b. has_number f.freed.items n || b) (sym (no_more (t == n)))
one_freed f v t is (deed.Follows u) known = no_more (has_number f.followed.items u.0 || list_any known f.callees.items)
one_freed f v t is deed.Allocates known = no_more (f.itself || list_any known f.callees.items)
one_freed f v t is deed.Calls known = no_more (list_any known f.callees.items)

pub finds_freed : (s : Search) (access : Option ℕ) (f : Found) (v : Vec TypeNo) (t : ℕ) → s ≡ search.Others → access ≡ Some t → v.items ≡ f.freed.items ++ record { 0 = t } ∷ [] →
    (d : Deed) (known : Callee → Bool) → does_found (with_freed f v) (sought s d) known ≡ (does_found f (sought s d) known || freeing_does (sought s d) access)
finds_freed s access f v t others some is d known =
    subst (λ (x : Search). does_found (with_freed f v) (sought x d) known ≡ (does_found f (sought x d) known || freeing_does (sought x d) access)) (sym others)
    (subst (λ (a : Option ℕ). does_found (with_freed f v) (sought search.Others d) known ≡ (does_found f (sought search.Others d) known || freeing_does (sought search.Others d) a)) (sym some)
    (one_freed f v t is d known))

-- An object is created by an allocator.

abbrev with_mark : Found → Found
with_mark f = record { itself = true; freed = f.freed; followed = f.followed; callees = f.callees }

marked : (f : Found) (d : Deed) (known : Callee → Bool) →
    does_found (with_mark f) (sought search.Others d) known ≡ (does_found f (sought search.Others d) known || allocation_does (sought search.Others d))
unfolding does_found
marked f (deed.Raises e) known = yes_at_last (f.itself || list_any known f.callees.items)
marked f (deed.Frees t) known = no_more (has_number f.freed.items t.0 || list_any known f.callees.items)
marked f (deed.Follows t) known = no_more (has_number f.followed.items t.0 || list_any known f.callees.items)
marked f deed.Allocates known = yes_at_last (f.itself || list_any known f.callees.items)
marked f deed.Calls known = no_more (list_any known f.callees.items)

pub finds_mark : (s : Search) (f : Found) → s ≡ search.Others → (d : Deed) (known : Callee → Bool) →
    does_found (with_mark f) (sought s d) known ≡ (does_found f (sought s d) known || allocation_does (sought s d))
finds_mark s f others d known =
    subst (λ (x : Search). does_found (with_mark f) (sought x d) known ≡ (does_found f (sought x d) known || allocation_does (sought x d))) (sym others) (marked f d known)
