-- Entries by number, as functions.

use Rattle.std.proofs.Common.{◌≡◌, ◌≢◌, ℕ, zero, suc, ◌<◌, inl, inr, Bool, List, [], ◌∷◌, ◌++◌, length, refl, sym, ap, ◌∙◌, arith, Option, None}
use Rattle.std.specs.Prelude.{nat_eq, if◌then◌else◌}
use Rattle.std.specs.HashMap.{HashMap, get, Updates}
use Rattle.std.specs.List.{slice_set}
use Rattle.std.proofs.Math.Path.{fun_ext}
use Rattle.std.proofs.lemmas.Bool.{ne_eqb}
use Rattle.std.proofs.lemmas.Bool.Decides.{eqb_tells}
use Rattle.std.proofs.lemmas.List.{get_or-set_same, get_or-set_other}
use Rattle.std.proofs.Math.Seq.{get_or-append_seam}
use Rattle.ada_pools.specs.Entries.{entries_of, updated}

-- entries that are those of a function but for one are those of that function updated
pub is_updated : {X : Type 0} (after before : ℕ → Option X) (n : ℕ) (e : Option X) → after n ≡ e → ((i : ℕ) → i ≢ n → after i ≡ before i) → after ≡ updated before n e
is_updated after before n e here else_ = fun_ext at where
  at : (i : ℕ) → after i ≡ updated before n e i
  at i = elim (eqb_tells i n) [
    | inl same ↦ ap after same.1 ∙ here ∙ ap (λ (b : Bool). if b then e else before i) (sym same.0)
    | inr other ↦ else_ i other.1 ∙ ap (λ (b : Bool). if b then e else before i) (sym other.0)
  ]

-- the entry of the number, and any other
pub updated_here : {X : Type 0} (before : ℕ → Option X) (n : ℕ) (e : Option X) → updated before n e n ≡ e
updated_here before n e = elim (eqb_tells n n) [
  | inl same ↦ ap (λ (b : Bool). if b then e else before n) same.0
  | inr other ↦ absurd (other.1 refl)
]

pub updated_else : {X : Type 0} (before : ℕ → Option X) (n : ℕ) (e : Option X) (i : ℕ) → i ≢ n → updated before n e i ≡ before i
updated_else before n e i away = elim (eqb_tells i n) [
  | inl same ↦ absurd (away same.1)
  | inr other ↦ ap (λ (b : Bool). if b then e else before i) other.0
]

-- a map that is updated at a key
pub map_updated : {X S : Type 0} (old new : HashMap ℕ X S) (n : ℕ) (e : Option X) → Updates nat_eq old new n e → get nat_eq new ≡ updated (get nat_eq old) n e
map_updated old new n e updates =
    is_updated (get nat_eq new) (get nat_eq old) n e updates.1 (λ i away. updates.2 i (ne_eqb n i (λ same. away (sym same))))

-- one more entry at the end
pub pushed_else : {X : Type 0} (xs : List (Option X)) (e : Option X) (i : ℕ) → i ≢ length xs → entries_of (xs ++ e ∷ []) i ≡ entries_of xs i
pushed_else [] e zero away = absurd (away refl)
pushed_else [] e (suc i) away = refl
pushed_else (x ∷ xs) e zero away = refl
pushed_else (x ∷ xs) e (suc i) away = pushed_else xs e i (λ same. away (omega (arith, same)))

-- one more entry that is none
pub push_none : {X : Type 0} (xs : List (Option X)) → entries_of (xs ++ None ∷ []) ≡ entries_of xs
push_none xs = fun_ext (at xs) where
  at : {X : Type 0} (xs : List (Option X)) (i : ℕ) → entries_of (xs ++ None ∷ []) i ≡ entries_of xs i
  at [] zero = refl
  at [] (suc i) = refl
  at (x ∷ xs) zero = refl
  at (x ∷ xs) (suc i) = at xs i

-- one entry is set
pub set_one : {X : Type 0} (xs : List (Option X)) (n : ℕ) (e : Option X) → n < length xs → entries_of (slice_set xs n e) ≡ updated (entries_of xs) n e
set_one xs n e within =
    is_updated (entries_of (slice_set xs n e)) (entries_of xs) n e (get_or-set_same xs n e None within) (λ i away. get_or-set_other xs n i e None away)

-- the entry behind the last one is set
pub set_next : {X : Type 0} (xs : List (Option X)) (n : ℕ) (e : Option X) → length xs ≡ n → entries_of (xs ++ e ∷ []) ≡ updated (entries_of xs) n e
set_next xs n e ends =
    is_updated (entries_of (xs ++ e ∷ [])) (entries_of xs) n e (ap (entries_of (xs ++ e ∷ [])) (sym ends) ∙ get_or-append_seam xs e [] None)
    (λ i away. pushed_else xs e i (λ same. away (same ∙ ends)))
