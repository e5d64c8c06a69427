-- How many collections of an access type are created.

use Rattle.std.proofs.Common.{◌≡◌, ℕ, ◌+◌, ◌≤◌, ◌<◌, Bool, true, false, ◌||◌, List, [], ◌∷◌, ◌++◌, refl, zero, suc, sym, subst, ap, ◌∙◌, arith, cond, eqb, eqb-true, eq-eqb}
use Rattle.std.specs.Prelude.{count_by, map}
use Rattle.std.proofs.lemmas.Bool.{ne_eqb}
use Rattle.std.proofs.lemmas.List.Sums.{sum_by-cons, sum_by-append}
use Rattle.ada_program.specs.Form.{DeclarationForm, creates_pool, collects, declares, declares_record}
use Rattle.ada_program.specs.ProgramForm.{TypeForm, record_of, access_to, object_of}
use Rattle.ada_program.specs.WellFormed as fits
use Rattle.ada_resolve.specs.Instances.{is_collected}
use Rattle.ada_resolve.specs.Objects.{collections_of}
use Rattle.ada_resolve.proofs.Names.{map_append}
use Rattle.ada_resolve.proofs.WellFormed.Created.{accesses}
use Rattle.ada_resolve.proofs.WellFormed.Tables.{left_fails, right_fails}

-- how many collections of an access type these create
abbrev pub count : ℕ → List DeclarationForm → ℕ
count a es = count_by (fits.is_collection a) (map fits.creation es)

count_next : (a : ℕ) (e : DeclarationForm) (es : List DeclarationForm) → count a (e ∷ es) ≡ cond (fits.is_collection a (fits.creation e)) 1 0 + count a es
count_next a e es = sum_by-cons (λ x. cond (fits.is_collection a x) 1 0) (fits.creation e) (map fits.creation es)

pub count_more : (a : ℕ) (es fs : List DeclarationForm) → count a (es ++ fs) ≡ count a es + count a fs
count_more a es fs =
    ap (λ cs. count_by (fits.is_collection a) cs) (map_append fits.creation es fs) ∙
    sum_by-append (λ x. cond (fits.is_collection a x) 1 0) (map fits.creation es) (map fits.creation fs)

pub not_collected : (a : ℕ) (es : List DeclarationForm) → is_collected a es ≡ false → count a es ≡ 0
not_collected a [] e = refl
not_collected a (collects t ∷ es) e =
    let first : eqb t a ≡ false = left_fails (eqb t a) (is_collected a es) e in
    let rest : count a es ≡ 0 = not_collected a es (right_fails (eqb t a) (is_collected a es) e) in
    count_next a (collects t) es ∙ (rw (first, rest) (omega arith))
not_collected a (creates_pool p ∷ es) e = not_collected a es e
not_collected a (declares x source ∷ es) e = not_collected a es e
not_collected a (declares_record x object initial ∷ es) e = not_collected a es e

some_collected : (b c : Bool) (n : ℕ) → (b || c) ≡ true → (c ≡ true → 0 < n) → 0 < cond b 1 0 + n
some_collected true c n e w = omega arith
some_collected false c n e w = let h = w e in omega arith

pub is_counted : (a : ℕ) (es : List DeclarationForm) → is_collected a es ≡ true → 0 < count a es
is_counted a [] e = absurd (cc e)
is_counted a (collects t ∷ es) e = rw (count_next a (collects t) es) (some_collected (eqb t a) (is_collected a es) (count a es) e (is_counted a es))
is_counted a (creates_pool p ∷ es) e = is_counted a es e
is_counted a (declares x source ∷ es) e = is_counted a es e
is_counted a (declares_record x object initial ∷ es) e = is_counted a es e

count_known_at : (a : ℕ) (es : List DeclarationForm) (b : Bool) → is_collected a es ≡ b → count a es ≤ 1 → count a es ≡ cond b 1 0
count_known_at a es true is most = let h = is_counted a es is in omega arith
count_known_at a es false is most = not_collected a es is

pub count_known : (a : ℕ) (es : List DeclarationForm) → count a es ≤ 1 → count a es ≡ cond (is_collected a es) 1 0
count_known a es most = count_known_at a es (is_collected a es) refl most

-- one more collection, of a type that has none
pub one_more : (a t : ℕ) (es : List DeclarationForm) → count a es ≤ 1 → is_collected t es ≡ false → count a (es ++ collects t ∷ []) ≤ 1
one_more a t es most none = rw (count_more a es (collects t ∷ [])) (one_at (eqb t a) refl)
  where
    one_at : (b : Bool) → eqb t a ≡ b → count a es + (0 + cond b 1 0) ≤ 1
    one_at true on = let h : count a es ≡ 0 = subst (λ v. count v es ≡ 0) (eqb-true t a on) (not_collected t es none) in omega arith
    one_at false off = omega arith

-- the collections that end the types: of those from a number on
made_first : (b : Bool) (k a : ℕ) (es : List DeclarationForm) → count a (cond b es (collects k ∷ es)) ≡ cond b 0 (cond (eqb k a) 1 0) + count a es
made_first true k a es = omega arith
made_first false k a es = count_next a (collects k) es

either_zero : (b : Bool) → cond {A = ℕ} b 0 0 ≡ 0
either_zero true = refl
either_zero false = refl

pub later_none : (ts : List TypeForm) (k a : ℕ) (es : List DeclarationForm) → a < k → count a (collections_of k ts es) ≡ 0
later_none [] k a es less = refl
later_none (record_of name ps cs final ∷ ts) k a es less = later_none ts (k + 1) a es (omega arith)
later_none (object_of r ∷ ts) k a es less = later_none ts (k + 1) a es (omega arith)
later_none (access_to name d pool ∷ ts) k a es less =
    let rest : count a (collections_of (k + 1) ts es) ≡ 0 = later_none ts (k + 1) a es (omega arith) in
    let other : eqb k a ≡ false = ne_eqb k a (omega arith) in
    made_first (is_collected k es) k a (collections_of (k + 1) ts es) ∙ (rw (other, rest, either_zero (is_collected k es)) (omega arith))

pub made : (ts : List TypeForm) (k i : ℕ) (es : List DeclarationForm) → count (k + i) (collections_of k ts es) ≡ cond (is_collected (k + i) es) 0 (accesses ts i)
made [] k i es = sym (either_zero (is_collected (k + i) es))
made (record_of name ps cs final ∷ ts) k zero es =
    let here : k + 0 ≡ k = omega arith in
    let rest : count k (collections_of (k + 1) ts es) ≡ 0 = later_none ts (k + 1) k es (omega arith) in
    rw here (rest ∙ sym (either_zero (is_collected k es)))
made (object_of r ∷ ts) k zero es =
    let here : k + 0 ≡ k = omega arith in
    let rest : count k (collections_of (k + 1) ts es) ≡ 0 = later_none ts (k + 1) k es (omega arith) in
    rw here (rest ∙ sym (either_zero (is_collected k es)))
made (access_to name d pool ∷ ts) k zero es =
    let here : k + 0 ≡ k = omega arith in
    let rest : count k (collections_of (k + 1) ts es) ≡ 0 = later_none ts (k + 1) k es (omega arith) in
    let own : eqb k k ≡ true = eq-eqb k k refl in
    rw here (made_first (is_collected k es) k k (collections_of (k + 1) ts es) ∙ (rw (own, rest) (omega arith)))
made (record_of name ps cs final ∷ ts) k (suc i) es =
    let next : k + suc i ≡ (k + 1) + i = omega arith in rw next (made ts (k + 1) i es)
made (object_of r ∷ ts) k (suc i) es =
    let next : k + suc i ≡ (k + 1) + i = omega arith in rw next (made ts (k + 1) i es)
made (access_to name d pool ∷ ts) k (suc i) es =
    let next : k + suc i ≡ (k + 1) + i = omega arith in
    let other : eqb k ((k + 1) + i) ≡ false = ne_eqb k ((k + 1) + i) (omega arith) in
    rw next (made_first (is_collected k es) k ((k + 1) + i) (collections_of (k + 1) ts es) ∙
    (rw (other, either_zero (is_collected k es)) (omega (arith, made ts (k + 1) i es))))

pub at_most_made : (ts : List TypeForm) (k a : ℕ) (es : List DeclarationForm) → count a (collections_of k ts es) ≤ cond (is_collected a es) 0 1
at_most_made [] k a es = omega arith
at_most_made (record_of name ps cs final ∷ ts) k a es = at_most_made ts (k + 1) a es
at_most_made (object_of r ∷ ts) k a es = at_most_made ts (k + 1) a es
at_most_made (access_to name d pool ∷ ts) k a es =
    rw (made_first (is_collected k es) k a (collections_of (k + 1) ts es)) (made_at (at_most_made ts (k + 1) a es) (eqb k a) refl)
  where
    made_at : count a (collections_of (k + 1) ts es) ≤ cond (is_collected a es) 0 1 → (b : Bool) → eqb k a ≡ b → cond (is_collected k es) 0 (cond b 1 0) + count a (collections_of (k + 1) ts es) ≤ cond (is_collected a es) 0 1
    made_at more true on =
        let same : k ≡ a = eqb-true k a on in
        let rest : count a (collections_of (k + 1) ts es) ≡ 0 = later_none ts (k + 1) a es (omega arith) in
        rw (rest, same) (omega arith)
    made_at more false off = rw (either_zero (is_collected k es)) (omega arith)
