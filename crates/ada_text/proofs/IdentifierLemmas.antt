-- Underscores, byte by byte.
use Rattle.std.proofs.Common.{◌≡◌, ℕ, ◌+◌, ◌<◌, ◌≤◌, List, [], ◌∷◌, length, get_or, drop, take, cond, true, false, Bool, not, ◌&&◌, eqb, eqb-true, All, refl, ap, arith}
use Rattle.std.specs.List.{prefix_len}
use Rattle.std.proofs.lemmas.List.{drop_more, drop_all, length-take, get_or-take}
use Rattle.std.proofs.lemmas.List.Sums.{prefix_len_passes}
use Rattle.std.proofs.lemmas.Bool.Decides.{nat_tests}
use Rattle.ada_text.specs.Bytes.{is_word_byte}
use Rattle.ada_text.specs.Identifier.{underscores_stand_alone}

-- a byte that is none may be left out
pub beside : (b : ℕ) (bs : List ℕ) → eqb b 95 ≡ false → underscores_stand_alone (b ∷ bs) ≡ underscores_stand_alone bs
unfolding underscores_stand_alone
beside b [] e = rw e refl
beside b (c ∷ bs) e = rw e refl

first : (b : ℕ) (bs : List ℕ) → underscores_stand_alone (b ∷ bs) ≡ cond (eqb b 95) (underscores_stand_alone (95 ∷ bs)) (underscores_stand_alone bs)
first b bs = split (eqb b 95) refl
  where
    split : (r : Bool) → eqb b 95 ≡ r → underscores_stand_alone (b ∷ bs) ≡ cond r (underscores_stand_alone (95 ∷ bs)) (underscores_stand_alone bs)
    split true e = ap (λ x. underscores_stand_alone (x ∷ bs)) (eqb-true b 95 e)
    split false e = beside b bs e

second : (b : ℕ) (bs : List ℕ) → underscores_stand_alone (95 ∷ b ∷ bs) ≡ cond (eqb b 95) false (underscores_stand_alone bs)
unfolding underscores_stand_alone
second b bs = split (eqb b 95) refl
  where
    split : (r : Bool) → eqb b 95 ≡ r → (not (eqb b 95) && underscores_stand_alone (b ∷ bs)) ≡ cond r false (underscores_stand_alone bs)
    split true e = rw e refl
    split false e = rw e (beside b bs e)

pub underscores-drop : (w : List ℕ) (i : ℕ) → i < length w → underscores_stand_alone (drop i w) ≡ cond (eqb (get_or w i 0) 95) (underscores_stand_alone (95 ∷ drop (i + 1) w)) (underscores_stand_alone (drop (i + 1) w))
underscores-drop w i l = rw (drop_more w i 0 l) (first _ _)

pub underscores-behind : (w : List ℕ) (i : ℕ) → i < length w → underscores_stand_alone (95 ∷ drop i w) ≡ cond (eqb (get_or w i 0) 95) false (underscores_stand_alone (drop (i + 1) w))
underscores-behind w i l = rw (drop_more w i 0 l) (second _ _)

pub underscores-drop_all : (w : List ℕ) (i : ℕ) → length w ≤ i → (underscores_stand_alone (drop i w) ≡ true) × (underscores_stand_alone (95 ∷ drop i w) ≡ false)
unfolding underscores_stand_alone
underscores-drop_all w i l = rw (drop_all i w l) (refl, refl)

pub ruleset steps = (underscores-drop, underscores-behind, underscores-drop_all)

-- letters, digits and underscores are below 128
below_128 : (b : ℕ) → is_word_byte b ≡ true → b < 128
below_128 b e = grind (arith, nat_tests)

pub word_bytes-below_128 : (text : List ℕ) (n : ℕ) → n ≡ prefix_len is_word_byte text → All (λ b. b < 128) (take n text)
word_bytes-below_128 text n e k d l =
    let within : k < n = omega (arith, simp length-take at l) in
    rw (get_or-take n text k d within) (below_128 _ (prefix_len_passes is_word_byte text k d (omega arith)))
