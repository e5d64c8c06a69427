-- Numbers of open subpools, by their flags.
use Rattle.std.proofs.Common.{◌≡◌, ◌≢◌, ℕ, zero, suc, ◌+◌, ◌-◌, ◌≤◌, ◌<◌, Bool, true, false, not, cond, List, [], ◌∷◌, length, get_or, set, replicate, refl, sym, ap, ◌∙◌, arith, ◌⊎◌, inl, inr, Some, None, Contains, subst, length-set, get_or-set_same, get_or-set_other}
use Rattle.std.specs.Prelude.{◌==◌, nat_lt, if◌then◌else◌}
use Rattle.std.specs.List.{position, position_or_len}
use Rattle.std.proofs.lemmas.Bool.{eqb-true, eqb-false, eq-eqb, lt-ltb, le-ltb, ltb-false}
use Rattle.pool_kinds.specs.Kinds.{least_from, inserted, without, opened_subpool, open_from}

bool_cases : (b : Bool) → (b ≡ true) ⊎ (b ≡ false)
bool_cases true = inl refl
bool_cases false = inr refl

ne-eqb : (n m : ℕ) → n ≢ m → (n == m) ≡ false
ne-eqb n m ne = elim (bool_cases (n == m)) [ inl it ↦ absurd (ne (eqb-true n m it)) | inr it ↦ it ]

same_or_not : (n m : ℕ) → (n ≡ m) ⊎ (n ≢ m)
same_or_not n m = elim (bool_cases (n == m)) [ inl it ↦ inl (eqb-true n m it) | inr it ↦ inr (eqb-false n m it) ]

-- an open number has a flag, which is set
pub has_flag : (n : ℕ) (flags : List Bool) (w : ℕ) → Contains (open_from n flags) w → (n ≤ w) × (w < n + length flags) × (get_or flags (w - n) false ≡ true)
has_flag n [] w c = absurd (omega (arith, c.1))
has_flag n (true ∷ flags) w (zero, low, is) = let e : n ≡ w = is in
    let at : w - n ≡ 0 = omega arith in (omega arith, omega arith, ap (λ (k : ℕ). get_or (true ∷ flags) k false) at)
has_flag n (true ∷ flags) w (suc i, low, is) =
    let rest = has_flag (suc n) flags w (i, omega (arith, low), is) in
    let at : w - n ≡ suc (w - suc n) = omega (arith, rest.0) in
    (omega (arith, rest.0), omega (arith, rest.1), ap (λ (k : ℕ). get_or (true ∷ flags) k false) at ∙ rest.2)
has_flag n (false ∷ flags) w c =
    let rest = has_flag (suc n) flags w c in
    let at : w - n ≡ suc (w - suc n) = omega (arith, rest.0) in
    (omega (arith, rest.0), omega (arith, rest.1), ap (λ (k : ℕ). get_or (false ∷ flags) k false) at ∙ rest.2)

-- no number before the first flag's is among them
least_gap : (n m : ℕ) (flags : List Bool) → n < m → least_from n (open_from m flags) ≡ n
least_gap n m [] less = refl
least_gap n m (true ∷ flags) less = ap (λ (b : Bool). if b then least_from (suc n) (open_from (suc m) flags) else n) (ne-eqb m n (λ e. absurd (omega arith)))
least_gap n m (false ∷ flags) less = least_gap n (suc m) flags (omega arith)

inserted_front : (n m : ℕ) (flags : List Bool) → n < m → inserted n (open_from m flags) ≡ n ∷ open_from m flags
inserted_front n m [] less = refl
inserted_front n m (true ∷ flags) less =
    ap (λ (b : Bool). if b then n ∷ m ∷ open_from (suc m) flags else m ∷ inserted n (open_from (suc m) flags)) (lt-ltb n m less)
inserted_front n m (false ∷ flags) less = inserted_front n (suc m) flags (omega arith)

pub least_is : (n : ℕ) (flags : List Bool) (p : ℕ) → p < length flags → get_or flags p false ≡ false → ((j : ℕ) → j < p → get_or flags j false ≡ true) → least_from n (open_from n flags) ≡ n + p
least_is n [] p inside off on = absurd (omega arith)
least_is n (true ∷ flags) zero inside off on = absurd (let e : true ≡ false = off in cc)
least_is n (true ∷ flags) (suc p) inside off on =
    ap (λ (b : Bool). if b then least_from (suc n) (open_from (suc n) flags) else n) (eq-eqb n n refl)
    ∙ least_is (suc n) flags p (omega arith) off (λ j less. on (suc j) (omega arith)) ∙ omega arith
least_is n (false ∷ flags) zero inside off on = least_gap n (suc n) flags (omega arith) ∙ omega arith
least_is n (false ∷ flags) (suc p) inside off on = absurd (let e : false ≡ true = on 0 (omega arith) in cc)

pub inserted_is : (n : ℕ) (flags : List Bool) (p : ℕ) → p < length flags → get_or flags p false ≡ false → inserted (n + p) (open_from n flags) ≡ open_from n (set flags p true)
inserted_is n [] p inside off = absurd (omega arith)
inserted_is n (true ∷ flags) zero inside off = absurd (let e : true ≡ false = off in cc)
inserted_is n (true ∷ flags) (suc p) inside off =
    ap (λ (b : Bool). if b then (n + suc p) ∷ n ∷ open_from (suc n) flags else n ∷ inserted (n + suc p) (open_from (suc n) flags)) (le-ltb (n + suc p) n (omega arith))
    ∙ ap (λ (k : ℕ). n ∷ inserted k (open_from (suc n) flags)) (omega arith) ∙ ap (λ ns. n ∷ ns) (inserted_is (suc n) flags p (omega arith) off)
inserted_is n (false ∷ flags) zero inside off = ap (λ (k : ℕ). inserted k (open_from (suc n) flags)) (omega arith) ∙ inserted_front n (suc n) flags (omega arith)
inserted_is n (false ∷ flags) (suc p) inside off =
    ap (λ (k : ℕ). inserted k (open_from (suc n) flags)) (omega arith) ∙ inserted_is (suc n) flags p (omega arith) off

pub without_is : (n : ℕ) (flags : List Bool) (p : ℕ) → p < length flags → get_or flags p false ≡ true → without (n + p) (open_from n flags) ≡ open_from n (set flags p false)
without_is n [] p inside on = absurd (omega arith)
without_is n (true ∷ flags) zero inside on =
    ap (λ (b : Bool). if b then open_from (suc n) flags else n ∷ without (n + 0) (open_from (suc n) flags)) (eq-eqb n (n + 0) (omega arith))
without_is n (true ∷ flags) (suc p) inside on =
    ap (λ (b : Bool). if b then open_from (suc n) flags else n ∷ without (n + suc p) (open_from (suc n) flags)) (ne-eqb n (n + suc p) (λ e. absurd (omega arith)))
    ∙ ap (λ (k : ℕ). n ∷ without k (open_from (suc n) flags)) (omega arith) ∙ ap (λ ns. n ∷ ns) (without_is (suc n) flags p (omega arith) on)
without_is n (false ∷ flags) zero inside on = absurd (let e : false ≡ true = on in cc)
without_is n (false ∷ flags) (suc p) inside on =
    ap (λ (k : ℕ). without k (open_from (suc n) flags)) (omega arith) ∙ without_is (suc n) flags p (omega arith) on

-- how many are open
count_most : (n : ℕ) (flags : List Bool) → length (open_from n flags) ≤ length flags
count_most n [] = omega arith
count_most n (true ∷ flags) = omega (arith, count_most (suc n) flags)
count_most n (false ∷ flags) = omega (arith, count_most (suc n) flags)

pub count_less : (n : ℕ) (flags : List Bool) (p : ℕ) → p < length flags → get_or flags p false ≡ false → length (open_from n flags) < length flags
count_less n [] p inside off = absurd (omega arith)
count_less n (true ∷ flags) zero inside off = absurd (let e : true ≡ false = off in cc)
count_less n (true ∷ flags) (suc p) inside off = omega (arith, count_less (suc n) flags p (omega arith) off)
count_less n (false ∷ flags) p inside off = omega (arith, count_most (suc n) flags)

pub count_all : (n : ℕ) (flags : List Bool) → ((j : ℕ) → j < length flags → get_or flags j false ≡ true) → length (open_from n flags) ≡ length flags
count_all n [] on = refl
count_all n (true ∷ flags) on = ap suc (count_all (suc n) flags (λ j less. on (suc j) (omega arith)))
count_all n (false ∷ flags) on = absurd (let e : false ≡ true = on 0 (omega arith) in cc)

pub none_open : (n k : ℕ) → open_from n (replicate k false) ≡ []
none_open n zero = refl
none_open n (suc k) = none_open (suc n) k

-- one more is open, or none can be
pub opened_is : (flags : List Bool) (p : ℕ) → length flags ≡ 1000 → p < length flags → get_or flags p false ≡ false → ((j : ℕ) → j < p → get_or flags j false ≡ true)
    → opened_subpool (open_from 1 flags) ≡ Some (1 + p, open_from 1 (set flags p true))
opened_is flags p all inside off on =
    let owners = open_from 1 flags in let few = count_less 1 flags p inside off in
    ap (λ (b : Bool). if b then Some (least_from 1 owners, inserted (least_from 1 owners) owners) else None) (lt-ltb (length owners) 1000 (omega arith))
    ∙ ap (λ (k : ℕ). Some (k, inserted k owners)) (least_is 1 flags p inside off on) ∙ ap (λ ns. Some (1 + p, ns)) (inserted_is 1 flags p inside off)

pub none_opens : (flags : List Bool) → length flags ≡ 1000 → ((j : ℕ) → j < length flags → get_or flags j false ≡ true) → opened_subpool (open_from 1 flags) ≡ None
none_opens flags all on =
    let owners = open_from 1 flags in let many = count_all 1 flags on in
    ap (λ (b : Bool). if b then Some (least_from 1 owners, inserted (least_from 1 owners) owners) else None) (le-ltb (length owners) 1000 (omega arith))

-- a flag, by what its opposite is
pub off_is : (b : Bool) → not b ≡ true → b ≡ false
off_is true e = cc
off_is false e = refl

pub on_is : (b : Bool) → not b ≡ false → b ≡ true
on_is true e = refl
on_is false e = cc

-- no flag is off
all_set : (flags : List Bool) → length flags ≤ position_or_len not flags → (j : ℕ) → j < length flags → get_or flags j false ≡ true
all_set [] many j less = absurd (omega arith)
all_set (true ∷ flags) many zero less = refl
all_set (true ∷ flags) many (suc j) less = all_set flags (omega (arith, many)) j (omega arith)
all_set (false ∷ flags) many j less = absurd (omega (arith, many))

pub no_closed : (flags : List Bool) → position not flags ≡ None → (j : ℕ) → j < length flags → get_or flags j false ≡ true
no_closed flags e = elim (bool_cases (nat_lt (position_or_len not flags) (length flags))) [
  | inl less ↦ absurd (let z : Some (position_or_len not flags) ≡ None = sym (ap (λ (b : Bool). cond b (Some (position_or_len not flags)) None) less) ∙ e in cc)
  | inr past ↦ all_set flags (ltb-false (position_or_len not flags) (length flags) past)
]

-- a flag that is set is that of an open number
pub flag_open : (n : ℕ) (flags : List Bool) (p : ℕ) → p < length flags → get_or flags p false ≡ true → Contains (open_from n flags) (n + p)
flag_open n [] p inside on = absurd (omega arith)
flag_open n (true ∷ flags) zero inside on = (0, omega arith, omega arith)
flag_open n (true ∷ flags) (suc p) inside on =
    let x = flag_open (suc n) flags p (omega arith) on in
    subst (Contains (n ∷ open_from (suc n) flags)) (omega arith) (suc x.0, omega (arith, x.1), x.2)
flag_open n (false ∷ flags) zero inside on = absurd (let e : false ≡ true = on in cc)
flag_open n (false ∷ flags) (suc p) inside on = subst (Contains (open_from (suc n) flags)) (omega arith) (flag_open (suc n) flags p (omega arith) on)

-- numbers whose flags are kept stay open
pub stays_open : (flags : List Bool) (p : ℕ) (b : Bool) (w : ℕ) → p < length flags → (w ≡ 1 + p → b ≡ true) → Contains (open_from 1 flags) w → Contains (open_from 1 (set flags p b)) w
stays_open flags p b w inside on c =
    let x = has_flag 1 flags w c in let long = length-set flags p b in
    let at : 1 + (w - 1) ≡ w = omega (arith, x.0) in
    subst (Contains (open_from 1 (set flags p b))) at (flag_open 1 (set flags p b) (w - 1) (omega (arith, x.1))
    (elim (same_or_not p (w - 1)) [
      | inl it ↦ ap (λ (k : ℕ). get_or (set flags p b) k false) (sym it) ∙ get_or-set_same flags p b false inside ∙ on (omega (arith, it, x.0))
      | inr away ↦ get_or-set_other flags p (w - 1) b false (λ e. away (sym e)) ∙ x.2
    ]))
