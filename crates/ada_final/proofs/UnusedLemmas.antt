-- What `IsUnused` gives, and what keeps it.
use Rattle.std.proofs.Common.{◌≡◌, ◌≢◌, ℕ, zero, suc, ◌+◌, ◌<◌, ◌≤◌, Bool, true, false, List, [], ◌∷◌, ◌++◌, length, get_or, set, nat_eq, if◌then◌else◌, cond, Option, Some, None, IsSome, is_none, count_by, refl, sym, ap, ◌∙◌, subst, arith, length-set, length-append, not, inl, inr}
use Rattle.std.proofs.lemmas.List.{get_or-set_same, get_or-set_other}
use Rattle.std.proofs.lemmas.List.Sums.{sum_by-set, sum_by_push, count_by-le-length}
use Rattle.std.proofs.lemmas.Bool.{eq-eqb, eqb-true, cases_eq}
use Rattle.ada_final.specs.declared.item.Item.{Item}
use Rattle.ada_final.specs.Lists.{Numbered, list_at}
use Rattle.ada_final.specs.Unused.{vacancy, IsUnused}

not_true : (b : Bool) → (b ≡ true → ⊥) → b ≡ false
not_true true never = absurd (never refl)
not_true false never = refl

-- where there is a vacancy, the number is one of the lists', and no list is entered there
vacant_at : (lists : Numbered) (number : ℕ) → 0 < vacancy lists number → (number < length lists) × (list_at lists number ≡ None)
vacant_at [] number vacant = absurd (omega arith)
vacant_at (None ∷ rest) zero vacant = (omega arith, refl)
vacant_at (Some items ∷ rest) zero vacant = absurd (omega arith)
vacant_at (first ∷ rest) (suc number) vacant =
    let there = vacant_at rest number vacant in (omega (arith, there.0), there.1)

-- where there is none, a list is entered
entered_at : (lists : Numbered) (number : ℕ) (d : Option (List Item)) → number < length lists → vacancy lists number ≡ 0 → IsSome (get_or lists number d)
entered_at [] number d within full = absurd (omega arith)
entered_at (None ∷ rest) zero d within full = absurd (omega arith)
entered_at (Some items ∷ rest) zero d within full = refl
entered_at (first ∷ rest) (suc number) d within full = entered_at rest number d (omega arith) full

vacancy-entered : (lists : Numbered) (number : ℕ) → IsSome (list_at lists number) → (number < length lists) × (vacancy lists number ≡ 0)
vacancy-entered [] number here = absurd (cc)
vacancy-entered (None ∷ rest) zero here = absurd (cc)
vacancy-entered (Some items ∷ rest) zero here = (omega arith, refl)
vacancy-entered (first ∷ rest) (suc number) here =
    let there = vacancy-entered rest number here in (omega (arith, there.0), there.1)

vacancy-le_one : (lists : Numbered) (number : ℕ) → vacancy lists number ≤ 1
vacancy-le_one lists number =
    elim (is_none (get_or lists number (Some []))) as (λ (b : Bool). cond b 1 0 ≤ 1) [ true ↦ omega arith | false ↦ omega arith ]

vacancy-set_other : (lists : Numbered) (number other : ℕ) (entry : Option (List Item)) → other ≢ number → vacancy (set lists number entry) other ≡ vacancy lists other
vacancy-set_other lists number other entry apart =
    ap (λ (e : Option (List Item)). if is_none e then 1 else 0) (get_or-set_other lists number other entry (Some []) apart)

vacancy-set_same : (lists : Numbered) (number : ℕ) (entry : Option (List Item)) → number < length lists → vacancy (set lists number entry) number ≡ (if is_none entry then 1 else 0)
vacancy-set_same lists number entry within =
    ap (λ (e : Option (List Item)). if is_none e then 1 else 0) (get_or-set_same lists number entry (Some []) within)

-- a number is once more among the numbers that it is put behind
count-push_same : (unused : List ℕ) (number : ℕ) → count_by (nat_eq number) (unused ++ number ∷ []) ≡ count_by (nat_eq number) unused + 1
count-push_same unused number =
    sum_by_push (λ (n : ℕ). cond (nat_eq number n) 1 0) unused number
    ∙ ap (λ (b : Bool). count_by (nat_eq number) unused + cond b 1 0) (eq-eqb number number refl)

not_equal : (a b : ℕ) → a ≢ b → nat_eq a b ≡ false
not_equal a b apart = not_true (nat_eq a b) (λ same. apart (eqb-true a b same))

count-push_other : (unused : List ℕ) (number other : ℕ) → other ≢ number → count_by (nat_eq other) (unused ++ number ∷ []) ≡ count_by (nat_eq other) unused
count-push_other unused number other apart =
    sum_by_push (λ (n : ℕ). cond (nat_eq other n) 1 0) unused number
    ∙ ap (λ (b : Bool). count_by (nat_eq other) unused + cond b 1 0) (not_equal other number apart)
    ∙ omega arith

abbrev absences : Option (List Item) → ℕ
absences entry = if is_none entry then 1 else 0

-- how many numbers have no list, after one has another entry
count-set : (lists : Numbered) (number : ℕ) (entry : Option (List Item)) → number < length lists → count_by is_none (set lists number entry) + absences (list_at lists number) ≡ count_by is_none lists + absences entry
count-set lists number entry within =
    sum_by-set (λ (e : Option (List Item)). cond (is_none e) 1 0) lists number entry None within

module _ (lists : Numbered) (unused : List ℕ) (capacity number : ℕ) (sound : IsUnused lists unused capacity) where
  -- the last number that waits is one of the lists', and no list is entered there
  pub last_is_vacant : (rest : List ℕ) → unused ≡ rest ++ number ∷ [] → (number < length lists) × (list_at lists number ≡ None)
  last_is_vacant rest pushed =
      let once = subst (λ (ns : List ℕ). count_by (nat_eq number) ns ≡ vacancy lists number) pushed (sound.each_once number) in
      let more = count-push_same rest number in
      vacant_at lists number (omega arith)

  -- to enter a list under it takes it out
  pub enter_keeps : (rest : List ℕ) (items : List Item) → unused ≡ rest ++ number ∷ [] → IsUnused (set lists number (Some items)) rest capacity
  enter_keeps rest items pushed =
      let vacant = last_is_vacant rest pushed in
      let once : (other : ℕ) → count_by (nat_eq other) (rest ++ number ∷ []) ≡ vacancy lists other =
      subst (λ (ns : List ℕ). (other : ℕ) → count_by (nat_eq other) ns ≡ vacancy lists other) pushed sound.each_once in
      let counted : length (rest ++ number ∷ []) ≡ count_by is_none lists = subst (λ (ns : List ℕ). length ns ≡ count_by is_none lists) pushed sound.counted in
      let more = count-push_same rest number in
      let one = vacancy-le_one lists number in
      let full : vacancy (set lists number (Some items)) number ≡ 0 = vacancy-set_same lists number (Some items) vacant.0 in
      let here : count_by (nat_eq number) rest ≡ vacancy (set lists number (Some items)) number = omega (arith, once number) in
      let fewer : count_by is_none (set lists number (Some items)) + 1 ≡ count_by is_none lists =
      subst (λ (e : Option (List Item)). count_by is_none (set lists number (Some items)) + absences e ≡ count_by is_none lists + 0) vacant.1 (count-set lists number (Some items) vacant.0)
      ∙ omega arith in
      record {
        each_once = λ other. elim (cases_eq other number) [
          | inl same ↦ subst (λ (n : ℕ). count_by (nat_eq n) rest ≡ vacancy (set lists number (Some items)) n) (sym same) here
          | inr apart ↦ sym (count-push_other rest number other apart) ∙ once other ∙ sym (vacancy-set_other lists number other (Some items) apart)
        ];
        counted = omega (arith, length-append rest (number ∷ []));
        room = omega (arith, length-set lists number (Some items), sound.room);
      }

  module _ (here : IsSome (list_at lists number)) where
    one_more : count_by is_none (set lists number None) ≡ count_by is_none lists + 1
    one_more =
        let there = vacancy-entered lists number here in
        let none : absences (list_at lists number) ≡ 0 = ap (λ (b : Bool). cond {A = ℕ} (not b) 1 0) here in
        omega (arith, count-set lists number None there.0)

    -- where a list is entered, the numbers that wait are not all
    pub has_room : length unused < capacity
    has_room =
        omega (arith, one_more, count_by-le-length is_none (set lists number None), length-set lists number None, sound.room, sound.counted)
