-- The words of an input, from the left.
use Rattle.std.proofs.Common.{◌≡◌, ℕ, ◌+◌, ◌-◌, ◌<◌, ◌≤◌, ℤ, List, [], ◌∷◌, ◌++◌, length, get_or, drop, take, true, false, Result, Ok, Err, refl, sym, ◌∙◌, ap, subst, ◌⊎◌, inl, inr, arith}
use Rattle.std.specs.List.{slice_split}
use Rattle.std.proofs.lemmas.List.{drop_more, drop_all, append_assoc, append-nil, take-append-drop, length-take-le, get_or-take, get_or-drop, drop-drop, length-drop}
use Rattle.std.proofs.lemmas.List.Elements.{All-from_get_or}
use Rattle.std.proofs.lemmas.List.Splits.{slice_split_none, slice_split_at, slice_split-cons_yes}
use Rattle.std.proofs.lemmas.Bool.{cases_lt}
use Rattle.ada_input.specs.Written.{HasNoSeparator, EndsWord}
use Rattle.ada_input.specs.Input.{is_separator, number_of, Word, words_among, words_from, before, with_word, numbers_of}

-- numbers in front of others
abbrev pub onto : List ℤ → Result (List ℤ) ℕ → Result (List ℤ) ℕ
onto ns (Ok ms) = Ok (ns ++ ms)
onto ns (Err place) = Err place

pub onto-before : (ns : List ℤ) (n : ℤ) (behind : Result (List ℤ) ℕ) → onto ns (before n behind) ≡ onto (ns ++ n ∷ []) behind
onto-before ns n (Ok ms) = ap Ok (sym (append_assoc ns (n ∷ []) ms))
onto-before ns n (Err place) = refl

pub onto-none : (behind : Result (List ℤ) ℕ) → onto [] behind ≡ behind
onto-none (Ok ms) = refl
onto-none (Err place) = refl

-- the word that stands at a place
abbrev pub word_at : ℕ → List ℕ → Word
word_at place bytes = record { place = place; bytes = bytes }

words_among-word : (p : ℕ) (w : List ℕ) (ws : List (List ℕ)) → 0 < length w → words_among p (w ∷ ws) ≡ word_at p w ∷ words_among (p + length w + 1) ws
unfolding words_among
words_among-word p [] ws l = absurd (omega arith)
words_among-word p (b ∷ bs) ws l = refl

words_among-gap : (p : ℕ) (ws : List (List ℕ)) → words_among p ([] ∷ ws) ≡ words_among (p + 1) ws
unfolding words_among
words_among-gap p ws = refl

words_among-none : (p : ℕ) → words_among p [] ≡ []
unfolding words_among
words_among-none p = refl

-- an empty input has no words
pub words_from-none : (p : ℕ) → words_from p [] ≡ []
words_from-none p = words_among-gap p [] ∙ words_among-none (p + 1)

-- a separator in front is passed over
pub words_from-gap : (p y : ℕ) (s : List ℕ) → is_separator y ≡ true → words_from p (y ∷ s) ≡ words_from (p + 1) s
words_from-gap p y s e = ap (words_among p) (slice_split-cons_yes is_separator y s e) ∙ words_among-gap p (slice_split is_separator s)

-- a word in front, and the words behind it
pub words_from-word : (p : ℕ) (w s : List ℕ) → HasNoSeparator w → 0 < length w → EndsWord s → words_from p (w ++ s) ≡ word_at p w ∷ words_from (p + length w) s
words_from-word p w [] apart l _ =
    rw (append-nil w) (ap (words_among p) (slice_split_none is_separator w apart)
    ∙ words_among-word p w [] l
    ∙ ap (λ ws. word_at p w ∷ ws) (words_among-none (p + length w + 1) ∙ sym (words_from-none (p + length w))))
words_from-word p w (y ∷ s) apart l e =
    ap (words_among p) (slice_split_at is_separator w y s apart e)
    ∙ words_among-word p w (slice_split is_separator s) l
    ∙ ap (λ ws. word_at p w ∷ ws) (sym (words_from-gap (p + length w) y s e))

numbers_of-word : (p : ℕ) (w : List ℕ) (ws : List Word) → numbers_of (word_at p w ∷ ws) ≡ with_word p (number_of w) (numbers_of ws)
unfolding numbers_of
numbers_of-word p w ws = refl

numbers_of-none : numbers_of [] ≡ Ok []
unfolding numbers_of
numbers_of-none = refl

pub numbers-word : (p : ℕ) (w s : List ℕ) → HasNoSeparator w → 0 < length w → EndsWord s → numbers_of (words_from p (w ++ s)) ≡ with_word p (number_of w) (numbers_of (words_from (p + length w) s))
numbers-word p w s apart l b = ap numbers_of (words_from-word p w s apart l b) ∙ numbers_of-word p w (words_from (p + length w) s)

pub numbers-none : (p : ℕ) → numbers_of (words_from p []) ≡ Ok []
numbers-none p = ap numbers_of (words_from-none p) ∙ numbers_of-none

-- the bytes up to len are a word, if no separator is among them and one stands behind them, or nothing
pub numbers-front : (p len : ℕ) (s : List ℕ) → 0 < len → len ≤ length s → ((k : ℕ) → k < len → is_separator (get_or s k 0) ≡ false) → (len < length s → is_separator (get_or s len 0) ≡ true) → numbers_of (words_from p s) ≡ with_word p (number_of (take len s)) (numbers_of (words_from (p + len) (drop len s)))
numbers-front p len s some within apart behind =
    let size : length (take len s) ≡ len = length-take-le len s within in
    let none : HasNoSeparator (take len s) = All-from_get_or (λ b. is_separator b ≡ false) (take len s) 0 (λ i l. let m : i < len = omega arith in rw (get_or-take len s i 0 m) (apart i m)) in
    let whole = numbers-word p (take len s) (drop len s) none (omega arith) (stands (cases_lt len (length s))) in
    subst (λ t. numbers_of (words_from p t) ≡ with_word p (number_of (take len s)) (numbers_of (words_from (p + len) (drop len s)))) (take-append-drop len s) (rw size at whole)
  where
    stands : (len < length s) ⊎ (length s ≤ len) → EndsWord (drop len s)
    stands (inl l) = rw (drop_more s len 0 l) (behind l)
    stands (inr l) = rw (drop_all len s l) tt

-- a separator at i
pub numbers-gap : (p i : ℕ) (s : List ℕ) → i < length s → is_separator (get_or s i 0) ≡ true → numbers_of (words_from p (drop i s)) ≡ numbers_of (words_from (p + 1) (drop (i + 1) s))
numbers-gap p i s l e = rw (drop_more s i 0 l) (ap numbers_of (words_from-gap p (get_or s i 0) (drop (i + 1) s) e))

-- the word at a place where no separator stands, seen through the slice from there to the end
pub numbers-at : (s t : List ℕ) (at len : ℕ) → t ≡ drop at s → at < length s → is_separator (get_or s at 0) ≡ false → len ≤ length t → ((k : ℕ) → k < len → is_separator (get_or t k 0) ≡ false) → (len < length t → is_separator (get_or t len 0) ≡ true) → numbers_of (words_from (at + 1) (drop at s)) ≡ with_word (at + 1) (number_of (take (at + len - at) (drop at s))) (numbers_of (words_from (at + len + 1) (drop (at + len) s)))
numbers-at s t at len e l here within apart behind =
    let whole = numbers-front (at + 1) len t (some (cases_lt 0 len)) within apart behind in
    let moved : drop len t ≡ drop (at + len) s = ap (drop len) e ∙ drop-drop len at s in
    let size : at + len - at ≡ len = omega arith in
    let place : at + len + 1 ≡ at + 1 + len = omega arith in
    rw (size, place, ← moved, ← e) whole
  where
    first : get_or t 0 0 ≡ get_or s at 0
    first = ap (λ u. get_or u 0 0) e ∙ get_or-drop at s 0 0 ∙ ap (λ i. get_or s i 0) (omega arith)

    long : 0 < length t
    long = omega (arith, ap length e, length-drop at s)

    none : len ≤ 0 → false ≡ true
    none z =
        let zero_len : len ≡ 0 = omega arith in
        sym (ap is_separator first ∙ here) ∙ ap (λ i. is_separator (get_or t i 0)) (sym zero_len) ∙ behind (omega (arith, long))

    some : (0 < len) ⊎ (len ≤ 0) → 0 < len
    some (inl h) = h
    some (inr h) = let n = none h in cc
