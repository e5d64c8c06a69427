-- The words of an input stand at their places.
use Rattle.std.proofs.Common.{◌≡◌, ℕ, zero, suc, ◌+◌, ◌<◌, ◌≤◌, List, [], ◌∷◌, ◌++◌, length, Bool, true, false, All, refl, sym, ◌∙◌, ap, subst, inl, inr, arith}
use Rattle.std.proofs.lemmas.List.{append_assoc, length-append}
use Rattle.std.proofs.lemmas.List.Elements.{All-nil, All-cons}
use Rattle.ada_input.specs.Input.{is_separator, Word, words_from}
use Rattle.ada_input.specs.Written.{HasNoSeparator, EndsWord}
use Rattle.ada_input.specs.Place.{BeginsWord, StandsIn}
use Rattle.ada_input.proofs.WordLemmas.{words_from-none, words_from-gap, words_from-word}

-- a front with no separator, as long as it can be
record Span (s : List ℕ) : Type 0 where
  word : List ℕ
  rest : List ℕ
  split : s ≡ word ++ rest
  whole : HasNoSeparator word
  ends : EndsWord rest

span : (s : List ℕ) → Span s
span [] = record { word = []; rest = []; split = refl; whole = All-nil (λ b. is_separator b ≡ false); ends = tt }
span (b ∷ bs) = first (is_separator b) refl (span bs)
  where
    first : (t : Bool) → is_separator b ≡ t → Span bs → Span (b ∷ bs)
    first true e more = record { word = []; rest = b ∷ bs; split = refl; whole = All-nil (λ c. is_separator c ≡ false); ends = e }
    first false e more =
        record {
          word = b ∷ more.word;
          rest = more.rest;
          split = ap (λ t. b ∷ t) more.split;
          whole = All-cons (λ c. is_separator c ≡ false) b more.word e more.whole;
          ends = more.ends;
        }

-- behind one more separator
behind_gap : (front : List ℕ) (b : ℕ) → is_separator b ≡ true → BeginsWord (front ++ b ∷ [])
behind_gap front b e = inr (record { front = front; last = b; split = refl; separator = e })

-- the words of what stands behind these bytes, stand
StandBehind : List ℕ → List ℕ → List ℕ → Type 0
StandBehind bytes front s = bytes ≡ front ++ s → BeginsWord front → All (StandsIn bytes) (words_from (length front + 1) s)

none_stand : (bytes front : List ℕ) → All (StandsIn bytes) (words_from (length front + 1) [])
none_stand bytes front = subst (All (StandsIn bytes)) (sym (words_from-none (length front + 1))) (All-nil (StandsIn bytes))

-- behind a separator too
gap_stand : (bytes front : List ℕ) (y : ℕ) (t : List ℕ) → StandBehind bytes (front ++ y ∷ []) t → bytes ≡ front ++ y ∷ t → is_separator y ≡ true → All (StandsIn bytes) (words_from (length front + 1) (y ∷ t))
unfolding StandBehind
gap_stand bytes front y t next e sep =
    let stands = next (e ∙ sym (append_assoc front (y ∷ []) t)) (behind_gap front y sep) in
    let size : length (front ++ y ∷ []) + 1 ≡ length front + 1 + 1 = omega (arith, length-append front (y ∷ [])) in
    subst (All (StandsIn bytes)) (ap (λ p. words_from p t) size ∙ sym (words_from-gap (length front + 1) y t sep)) stands

rest_stand : (bytes front rest : List ℕ) → ((before t : List ℕ) → length t < length rest → StandBehind bytes before t) → bytes ≡ front ++ rest → EndsWord rest → All (StandsIn bytes) (words_from (length front + 1) rest)
rest_stand bytes front [] next e ends = none_stand bytes front
rest_stand bytes front (y ∷ t) next e ends = gap_stand bytes front y t (next (front ++ y ∷ []) t (omega arith)) e ends

word_stand : (bytes front : List ℕ) (b : ℕ) (bs : List ℕ) → ((before t : List ℕ) → length t < length (b ∷ bs) → StandBehind bytes before t) → is_separator b ≡ false → bytes ≡ front ++ b ∷ bs → BeginsWord front → All (StandsIn bytes) (words_from (length front + 1) (b ∷ bs))
word_stand bytes front b bs next e split begins =
    let more = span bs in
    let w = b ∷ more.word in
    let word : Word = record { place = length front + 1; bytes = w } in
    let whole : HasNoSeparator w = All-cons (λ c. is_separator c ≡ false) b more.word e more.whole in
    let parts : b ∷ bs ≡ w ++ more.rest = ap (λ t. b ∷ t) more.split in
    let all : bytes ≡ front ++ (w ++ more.rest) = split ∙ ap (λ t. front ++ t) parts in
    let joined : bytes ≡ (front ++ w) ++ more.rest = all ∙ sym (append_assoc front w more.rest) in
    let shorter : length more.rest ≤ length bs = omega (arith, ap length more.split, length-append more.word more.rest) in
    let behind = rest_stand bytes (front ++ w) more.rest (λ before t l. next before t (omega arith)) joined more.ends in
    let size : length (front ++ w) + 1 ≡ length front + 1 + length w = omega (arith, length-append front w) in
    let here : StandsIn bytes word = record { before = front; behind = more.rest; split = all; place = refl; some = omega arith; whole = whole; begins = begins; ends = more.ends } in
    let words = words_from-word (length front + 1) w more.rest whole (omega arith) more.ends in
    subst (All (StandsIn bytes)) (sym (ap (words_from (length front + 1)) parts ∙ words))
    (All-cons (StandsIn bytes) word (words_from (length front + 1 + length w) more.rest) here
    (subst (λ p. All (StandsIn bytes) (words_from p more.rest)) size behind))

stand : (n : ℕ) (bytes front s : List ℕ) → length s ≤ n → StandBehind bytes front s
unfolding StandBehind
stand n bytes front [] l = λ split begins. none_stand bytes front
stand zero bytes front (b ∷ bs) l = absurd (omega arith)
stand (suc n) bytes front (b ∷ bs) l = first (is_separator b) refl (λ before t small. stand n bytes before t (omega arith))
  where
    first : (t : Bool) → is_separator b ≡ t → ((before t : List ℕ) → length t < length (b ∷ bs) → StandBehind bytes before t) → StandBehind bytes front (b ∷ bs)
    first true e next = λ split begins. gap_stand bytes front b bs (next (front ++ b ∷ []) bs (omega arith)) split e
    first false e next = λ split begins. word_stand bytes front b bs next e split begins

pub words_stand : (bytes : List ℕ) → All (StandsIn bytes) (words_from 1 bytes)
unfolding StandBehind
words_stand bytes = stand (length bytes) bytes [] bytes (omega arith) refl (inl refl)
