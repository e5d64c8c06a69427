-- The collections of a part's access types, one type after the other.

use Rattle.std.proofs.Common.{◌≡◌, ℕ, ◌+◌, zero, suc, Bool, true, false, cond, not, ◌&&◌, List, [], ◌∷◌, ◌++◌, map, append_assoc, drop, refl, sym, ap, ◌∙◌, subst, arith, is_some}
use Rattle.ada_program.specs.Form.{DeclarationForm, collects, declaration_form}
use Rattle.ada_program.specs.declared.program.Declaration.{Declaration}
use Rattle.ada_program.specs.declared.program.Declaration.TheVariants.{Collection}
use Rattle.ada_program.specs.ProgramForm.{TypeForm, record_of, access_to, object_of}
use Rattle.ada_resolve.specs.Instances.{is_collected}
use Rattle.ada_resolve.specs.Objects.{collections_of, lacks_collection}
use Rattle.ada_resolve.specs.Paths.{designated_of}
use Rattle.ada_resolve.proofs.Names.{map_snoc}

-- a type that lacks none
skip_at : (types : List TypeForm) (es : List DeclarationForm) (i n : ℕ) → (is_some (designated_of types i) && not (is_collected n es)) ≡ false → collections_of n (drop i types) es ≡ collections_of (n + 1) (drop (suc i) types) es
unfolding designated_of
skip_at [] es zero n e = refl
skip_at [] es (suc i) n e = refl
skip_at (record_of name ps cs final ∷ ts) es zero n e = refl
skip_at (object_of r ∷ ts) es zero n e = refl
skip_at (access_to name d pool ∷ ts) es zero n e = by_test (is_collected n es) e
  where
    by_test : (b : Bool) → (true && not b) ≡ false → cond b (collections_of (n + 1) ts es) (collects n ∷ collections_of (n + 1) ts es) ≡ collections_of (n + 1) ts es
    by_test true e = refl
    by_test false e = absurd (cc e)
skip_at (t ∷ ts) es (suc i) n e = skip_at ts es i n e

-- an access type that lacks its own
made_at : (types : List TypeForm) (es : List DeclarationForm) (i n : ℕ) → (is_some (designated_of types i) && not (is_collected n es)) ≡ true → collections_of n (drop i types) es ≡ collects n ∷ collections_of (n + 1) (drop (suc i) types) es
unfolding designated_of
made_at [] es i n e = absurd (cc e)
made_at (record_of name ps cs final ∷ ts) es zero n e = absurd (cc e)
made_at (object_of r ∷ ts) es zero n e = absurd (cc e)
made_at (access_to name d pool ∷ ts) es zero n e = by_test (is_collected n es) e
  where
    by_test : (b : Bool) → (true && not b) ≡ true → cond b (collections_of (n + 1) ts es) (collects n ∷ collections_of (n + 1) ts es) ≡ collects n ∷ collections_of (n + 1) ts es
    by_test true e = absurd (cc e)
    by_test false e = refl
made_at (t ∷ ts) es (suc i) n e = made_at ts es i n e

pub collections_skip : (types : List TypeForm) (es : List DeclarationForm) (i : ℕ) → lacks_collection types es i ≡ false → collections_of i (drop i types) es ≡ collections_of (i + 1) (drop (i + 1) types) es
collections_skip types es i e =
    let next : suc i ≡ i + 1 = omega arith in
    subst (λ (m : ℕ). collections_of i (drop i types) es ≡ collections_of (i + 1) (drop m types) es) next (skip_at types es i i e)

pub collections_made : (types : List TypeForm) (es : List DeclarationForm) (i : ℕ) → lacks_collection types es i ≡ true → collections_of i (drop i types) es ≡ collects i ∷ collections_of (i + 1) (drop (i + 1) types) es
collections_made types es i e =
    let next : suc i ≡ i + 1 = omega arith in
    subst (λ (m : ℕ). collections_of i (drop i types) es ≡ collects i ∷ collections_of (i + 1) (drop m types) es) next (made_at types es i i e)

-- one collection more, and those that are left
pub one_made : (made after : List Declaration) (types : List TypeForm) (es all : List DeclarationForm) (i : ℕ) → lacks_collection types es i ≡ true → after ≡ made ++ Collection (record { 0 = i }) ∷ [] → map declaration_form made ++ collections_of i (drop i types) es ≡ all → map declaration_form after ++ collections_of (i + 1) (drop (i + 1) types) es ≡ all
one_made made after types es all i lacks is before =
    let next = collections_of (i + 1) (drop (i + 1) types) es in
    let more : map declaration_form after ≡ map declaration_form made ++ collects i ∷ [] = ap (map declaration_form) is ∙ map_snoc declaration_form made (Collection (record { 0 = i })) in
    ap (λ (fs : List DeclarationForm). fs ++ next) more ∙ (append_assoc (map declaration_form made) (collects i ∷ []) next ∙ (ap (λ (fs : List DeclarationForm). map declaration_form made ++ fs) (sym (collections_made types es i lacks)) ∙ before))

-- those that are left, where a type lacks none
pub none_made : (made after : List Declaration) (types : List TypeForm) (es all : List DeclarationForm) (i : ℕ) → lacks_collection types es i ≡ false → after ≡ made → map declaration_form made ++ collections_of i (drop i types) es ≡ all → map declaration_form after ++ collections_of (i + 1) (drop (i + 1) types) es ≡ all
none_made made after types es all i lacks is before =
    rw is (ap (λ (fs : List DeclarationForm). map declaration_form made ++ fs) (sym (collections_skip types es i lacks)) ∙ before)
