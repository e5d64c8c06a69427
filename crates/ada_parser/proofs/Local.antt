-- Which tokens a reading depends on: those up to the first that it leaves, and no later ones.
use Rattle.std.proofs.Common.{◌≡◌, ℕ, zero, suc, ◌<◌, ◌≤◌, Bool, true, false, cond, List, [], ◌∷◌, ◌++◌, length, Result, Ok, Err, refl, ap, ◌∙◌, le_refl, le_trans, length-append, lt-suc_self, subst, arith}
use Rattle.ada_text.specs.Token.{Kind, identifier, number, string, reserved, delimiter, Lexeme}
use Rattle.ada_text.specs.declared.spot.Spot.{Spot}
use Rattle.ada_reader.specs.Step.{◌>>=◌, here, too_deep, Outcome, Phrase, spot_of, is_kind, fixed, identifier_at, number_at, string_at, allowed, opening_in, nothing, continued, mapped, choose, many, all_of, joined, chain}

-- what is left, whether the phrase was there or not; nothing where nesting is too deep
abbrev pub left_of : {A : Type 0} → Outcome A → List Lexeme
left_of (Ok x) = x.1
left_of (Err (here left)) = left
left_of (Err (too_deep spot)) = []

-- What becomes of the tokens u, t and any others: reading ends at t at the latest, whatever they are, or it takes t; or one before t is nested too deep.
pub data Fate {A : Type 0} (read : Phrase A) (u : List Lexeme) (t : Lexeme) : Type 0 where
  found : (x : A) (v : List Lexeme) → ((a : List Lexeme) → read (u ++ t ∷ a) ≡ Ok (x, v ++ t ∷ a)) → Fate read u t
  failed : (v : List Lexeme) → ((a : List Lexeme) → read (u ++ t ∷ a) ≡ Err (here (v ++ t ∷ a))) → Fate read u t
  sunk : (spot : Spot) → ((a : List Lexeme) → read (u ++ t ∷ a) ≡ Err (too_deep spot)) → Fate read u t
  passed : ((a : List Lexeme) → length (left_of (read (u ++ t ∷ a))) ≤ length a) → Fate read u t

-- Reading leaves no more than there was, and looks at no token behind the first that it leaves.
pub record Plain {A : Type 0} (read : Phrase A) : Type 0 where
  pub shrinks : (ts : List Lexeme) → length (left_of (read ts)) ≤ length ts
  pub fate : (u : List Lexeme) (t : Lexeme) → Fate read u t

-- A test looks at the first token alone.
abbrev pub Peeks : (List Lexeme → Bool) → Type 0
Peeks test = (t : Lexeme) (ts us : List Lexeme) → test (t ∷ ts) ≡ test (t ∷ us)

-- ---- phrases of phrases

pub nothing_plain : Plain nothing
nothing_plain = record { shrinks = λ ts. le_refl (length ts); fate = λ u t. found tt u (λ a. refl) }

bind_shrinks : {A B : Type 0} (r : Outcome A) (q : A → Phrase B) → ((x : A) (ts : List Lexeme) → r ≡ Ok (x, ts) → length (left_of (q x ts)) ≤ length ts) → length (left_of (r >>= λ x. q x.0 x.1)) ≤ length (left_of r)
bind_shrinks (Ok x) q h = h x.0 x.1 refl
bind_shrinks (Err (here left)) q h = le_refl (length left)
bind_shrinks (Err (too_deep spot)) q h = le_refl 0

fate_after : {A B : Type 0} (p : Phrase A) (q : A → Phrase B) (u : List Lexeme) (t : Lexeme) (x : A) (v : List Lexeme) → ((a : List Lexeme) → p (u ++ t ∷ a) ≡ Ok (x, v ++ t ∷ a)) → Fate (q x) v t → Fate (continued p q) u t
fate_after p q u t x v e (found y w f) = found y w (λ a. rw (e a) (f a))
fate_after p q u t x v e (failed w f) = failed w (λ a. rw (e a) (f a))
fate_after p q u t x v e (sunk spot f) = sunk spot (λ a. rw (e a) (f a))
fate_after p q u t x v e (passed le) = passed (λ a. rw (e a) (le a))

-- what comes after a phrase is looked at only where the phrase ends
fate_then : {A B : Type 0} (p : Phrase A) (q : A → Phrase B) (u : List Lexeme) (t : Lexeme) → ((ts : List Lexeme) (x : A) (rest : List Lexeme) → p ts ≡ Ok (x, rest) → length (left_of (q x rest)) ≤ length rest) → ((x : A) (v : List Lexeme) → ((a : List Lexeme) → p (u ++ t ∷ a) ≡ Ok (x, v ++ t ∷ a)) → Fate (q x) v t) → Fate p u t → Fate (continued p q) u t
fate_then p q u t shrinks next (found x v e) = fate_after p q u t x v e (next x v e)
fate_then p q u t shrinks next (failed v e) = failed v (λ a. rw (e a) refl)
fate_then p q u t shrinks next (sunk spot e) = sunk spot (λ a. rw (e a) refl)
fate_then p q u t shrinks next (passed le) = passed (λ a. le_trans (bind_shrinks (p (u ++ t ∷ a)) q (λ x rest e. shrinks (u ++ t ∷ a) x rest e)) (le a))

-- the second phrase counts only behind what the first reads
pub continued_plain : {A B : Type 0} (p : Phrase A) (q : A → Phrase B) → Plain p → ((ts : List Lexeme) (x : A) (rest : List Lexeme) → p ts ≡ Ok (x, rest) → Plain (q x)) → Plain (continued p q)
continued_plain p q plain h = record {
  shrinks = λ ts. le_trans (bind_shrinks (p ts) q (λ x rest e. (h ts x rest e).shrinks rest)) (plain.shrinks ts);
  fate = λ u t. fate_then p q u t (λ ts x rest e. (h ts x rest e).shrinks rest) (λ x v e. (h (u ++ t ∷ []) x (v ++ t ∷ []) (e [])).fate v t) (plain.fate u t);
}

pub done_plain : {A B : Type 0} (f : A → B) (x : A) → Plain (λ ts. Ok (f x, ts))
done_plain f x = record { shrinks = λ ts. le_refl (length ts); fate = λ u t. found (f x) u (λ a. refl) }

pub mapped_plain : {A B : Type 0} (f : A → B) (p : Phrase A) → Plain p → Plain (mapped f p)
mapped_plain f p plain = continued_plain p (λ x ts. Ok (f x, ts)) plain (λ ts x rest e. done_plain f x)

-- a test answers the same whatever stands behind t
pub peeked : (test : List Lexeme → Bool) → Peeks test → (u : List Lexeme) (t : Lexeme) → (b : Bool) × ((a : List Lexeme) → test (u ++ t ∷ a) ≡ b)
peeked test peeks [] t = (test (t ∷ []), λ a. peeks t a [])
peeked test peeks (x ∷ u) t = (test (x ∷ []), λ a. peeks x (u ++ t ∷ a) [])

fate_same : {A : Type 0} (p q : Phrase A) (u : List Lexeme) (t : Lexeme) → ((a : List Lexeme) → q (u ++ t ∷ a) ≡ p (u ++ t ∷ a)) → Fate p u t → Fate q u t
fate_same p q u t same (found x v e) = found x v (λ a. same a ∙ e a)
fate_same p q u t same (failed v e) = failed v (λ a. same a ∙ e a)
fate_same p q u t same (sunk spot e) = sunk spot (λ a. same a ∙ e a)
fate_same p q u t same (passed le) = passed (λ a. rw (same a) (le a))

fate_chosen : {A : Type 0} (test : List Lexeme → Bool) (p q : Phrase A) (u : List Lexeme) (t : Lexeme) (b : Bool) → ((a : List Lexeme) → test (u ++ t ∷ a) ≡ b) → Fate p u t → Fate q u t → Fate (choose test p q) u t
fate_chosen test p q u t true h f g = fate_same p (choose test p q) u t (λ a. rw (h a) refl) f
fate_chosen test p q u t false h f g = fate_same q (choose test p q) u t (λ a. rw (h a) refl) g

chosen_shrinks : {A : Type 0} (b : Bool) (x y : Outcome A) (n : ℕ) → length (left_of x) ≤ n → length (left_of y) ≤ n → length (left_of (cond b x y)) ≤ n
chosen_shrinks true x y n f g = f
chosen_shrinks false x y n f g = g

pub choose_plain : {A : Type 0} (test : List Lexeme → Bool) (p q : Phrase A) → Peeks test → Plain p → Plain q → Plain (choose test p q)
choose_plain test p q peeks f g = record {
  shrinks = λ ts. chosen_shrinks (test ts) (p ts) (q ts) (length ts) (f.shrinks ts) (g.shrinks ts);
  fate = λ u t. let b = peeked test peeks u t in fate_chosen test p q u t b.0 b.1 (f.fate u t) (g.fate u t);
}

-- ---- lists of phrases

-- A phrase takes a token at least.
abbrev pub Advances : {A : Type 0} → Phrase A → Type 0
Advances {A} item = (ts : List Lexeme) (x : A) (rest : List Lexeme) → item ts ≡ Ok (x, rest) → length rest < length ts

bind_same : {A B E : Type 0} (r : Result A E) (f g : A → Result B E) → ((x : A) → r ≡ Ok x → f x ≡ g x) → (r >>= f) ≡ (r >>= g)
bind_same (Ok x) f g h = h x refl
bind_same (Err e) f g h = refl

-- any bound above the number of tokens gives the same
many_same : {A : Type 0} (goes : List Lexeme → Bool) (item : Phrase A) → Advances item → (n m : ℕ) (ts : List Lexeme) → length ts < n → length ts < m → many goes item n ts ≡ many goes item m ts
many_same goes item advances zero m ts f g = absurd (omega arith)
many_same goes item advances (suc n) zero ts f g = absurd (omega arith)
many_same goes item advances (suc n) (suc m) ts f g =
    ap (λ z. cond (goes ts) z (Ok ([], ts)))
    (bind_same (item ts) (λ x. many goes item n x.1 >>= λ xs. Ok (x.0 ∷ xs.0, xs.1)) (λ x. many goes item m x.1 >>= λ xs. Ok (x.0 ∷ xs.0, xs.1))
    (λ x e. let less : length x.1 < length ts = advances ts x.0 x.1 e in
    ap (λ z. z >>= λ xs. Ok (x.0 ∷ xs.0, xs.1)) (many_same goes item advances n m x.1 (omega arith) (omega arith))))

-- one more and then all the others, or none
abbrev pub one_more : {A : Type 0} → (List Lexeme → Bool) → Phrase A → Phrase (List A)
one_more goes item = choose goes (continued item (λ x. mapped (λ xs. x ∷ xs) (all_of goes item))) (λ ts. Ok ([], ts))

pub all_unfold : {A : Type 0} (goes : List Lexeme → Bool) (item : Phrase A) → Advances item → (ts : List Lexeme) → all_of goes item ts ≡ one_more goes item ts
unfolding all_of
all_unfold goes item advances ts =
    ap (λ z. cond (goes ts) z (Ok ([], ts)))
    (bind_same (item ts) (λ x. many goes item (length ts) x.1 >>= λ xs. Ok (x.0 ∷ xs.0, xs.1)) (λ x. many goes item (suc (length x.1)) x.1 >>= λ xs. Ok (x.0 ∷ xs.0, xs.1))
    (λ x e. ap (λ z. z >>= λ xs. Ok (x.0 ∷ xs.0, xs.1)) (many_same goes item advances (length ts) (suc (length x.1)) x.1 (advances ts x.0 x.1 e) (lt-suc_self (length x.1)))))

many_shrinks : {A : Type 0} (goes : List Lexeme → Bool) (item : Phrase A) → Plain item → (n : ℕ) (ts : List Lexeme) → length (left_of (many goes item n ts)) ≤ length ts
many_shrinks goes item plain zero ts = le_refl (length ts)
many_shrinks goes item plain (suc n) ts =
    chosen_shrinks (goes ts) (item ts >>= (λ x. many goes item n x.1 >>= λ xs. Ok (x.0 ∷ xs.0, xs.1))) (Ok ([], ts)) (length ts)
    (le_trans (bind_shrinks (item ts) (λ x rest. many goes item n rest >>= λ xs. Ok (x ∷ xs.0, xs.1))
    (λ x rest e. le_trans (bind_shrinks (many goes item n rest) (λ xs left. Ok (x ∷ xs, left)) (λ xs left d. le_refl (length left))) (many_shrinks goes item plain n rest)))
    (plain.shrinks ts))
    (le_refl (length ts))

all_shrinks : {A : Type 0} (goes : List Lexeme → Bool) (item : Phrase A) → Plain item → (ts : List Lexeme) → length (left_of (all_of goes item ts)) ≤ length ts
unfolding all_of
all_shrinks goes item plain ts = many_shrinks goes item plain (suc (length ts)) ts

all_fate : {A : Type 0} (goes : List Lexeme → Bool) (item : Phrase A) → Peeks goes → Advances item → Plain item → (n : ℕ) (u : List Lexeme) (t : Lexeme) → length u < n → Fate (all_of goes item) u t
all_fate goes item peeks advances plain zero u t less = absurd (omega arith)
all_fate {A} goes item peeks advances plain (suc n) u t less =
    let b = peeked goes peeks u t in
    let q : A → Phrase (List A) = λ x. mapped (λ xs. x ∷ xs) (all_of goes item) in
    fate_same (one_more goes item) (all_of goes item) u t (λ a. all_unfold goes item advances (u ++ t ∷ a))
    (fate_chosen goes (continued item q) (λ ts. Ok ([], ts)) u t b.0 b.1
    (fate_then item q u t
    (λ us x ts e. le_trans (bind_shrinks (all_of goes item ts) (λ xs left. Ok (x ∷ xs, left)) (λ xs left d. le_refl (length left))) (all_shrinks goes item plain ts))
    (λ x v e.
    let shorter : length (v ++ t ∷ []) < length (u ++ t ∷ []) = advances (u ++ t ∷ []) x (v ++ t ∷ []) (e []) in
    let less : length v < n = omega (arith, length-append v (t ∷ []), length-append u (t ∷ [])) in
    fate_then (all_of goes item) (λ xs left. Ok (x ∷ xs, left)) v t (λ us xs ts d. le_refl (length ts)) (λ xs w f. found (x ∷ xs) w (λ a. refl)) (all_fate goes item peeks advances plain n v t less))
    (plain.fate u t))
    (found [] u (λ a. refl)))

pub all_plain : {A : Type 0} (goes : List Lexeme → Bool) (item : Phrase A) → Peeks goes → Advances item → Plain item → Plain (all_of goes item)
all_plain goes item peeks advances plain = record {
  shrinks = all_shrinks goes item plain;
  fate = λ u t. all_fate goes item peeks advances plain (suc (length u)) u t (lt-suc_self (length u));
}

-- ---- phrases joined by operators

-- one operator more with its phrase and then all the others, or none
abbrev pub one_joined : {A O : Type 0} → (List Lexeme → Bool) → Phrase O → Phrase A → (A → O → A → A) → A → Phrase A
one_joined goes operator item join x = choose goes (continued operator (λ o. continued item (λ y. chain goes operator item join (join x o y)))) (λ ts. Ok (x, ts))

pub rest_shorter : {A O : Type 0} (operator : Phrase O) (item : Phrase A) → Advances operator → Plain item → (ts mid rest : List Lexeme) (o : O) (y : A) → operator ts ≡ Ok (o, mid) → item mid ≡ Ok (y, rest) → length rest < length ts
rest_shorter operator item advances plain ts mid rest o y e f =
    let less : length mid < length ts = advances ts o mid e in
    let no_more : length rest ≤ length mid = subst (λ r. length (left_of r) ≤ length mid) f (plain.shrinks mid) in
    omega arith

-- any bound above the number of tokens gives the same
joined_same : {A O : Type 0} (goes : List Lexeme → Bool) (operator : Phrase O) (item : Phrase A) (join : A → O → A → A) → Advances operator → Plain item → (n m : ℕ) (x : A) (ts : List Lexeme) → length ts < n → length ts < m → joined goes operator item join n x ts ≡ joined goes operator item join m x ts
joined_same goes operator item join advances plain zero m x ts f g = absurd (omega arith)
joined_same goes operator item join advances plain (suc n) zero x ts f g = absurd (omega arith)
joined_same goes operator item join advances plain (suc n) (suc m) x ts f g =
    ap (λ z. cond (goes ts) z (Ok (x, ts)))
    (bind_same (operator ts) (λ o. item o.1 >>= λ y. joined goes operator item join n (join x o.0 y.0) y.1) (λ o. item o.1 >>= λ y. joined goes operator item join m (join x o.0 y.0) y.1)
    (λ o e. bind_same (item o.1) (λ y. joined goes operator item join n (join x o.0 y.0) y.1) (λ y. joined goes operator item join m (join x o.0 y.0) y.1)
    (λ y d. let less : length y.1 < length ts = rest_shorter operator item advances plain ts o.1 y.1 o.0 y.0 e d in
    joined_same goes operator item join advances plain n m (join x o.0 y.0) y.1 (omega arith) (omega arith))))

pub chain_unfold : {A O : Type 0} (goes : List Lexeme → Bool) (operator : Phrase O) (item : Phrase A) (join : A → O → A → A) → Advances operator → Plain item → (x : A) (ts : List Lexeme) → chain goes operator item join x ts ≡ one_joined goes operator item join x ts
unfolding chain
chain_unfold goes operator item join advances plain x ts =
    ap (λ z. cond (goes ts) z (Ok (x, ts)))
    (bind_same (operator ts) (λ o. item o.1 >>= λ y. joined goes operator item join (length ts) (join x o.0 y.0) y.1) (λ o. item o.1 >>= λ y. joined goes operator item join (suc (length y.1)) (join x o.0 y.0) y.1)
    (λ o e. bind_same (item o.1) (λ y. joined goes operator item join (length ts) (join x o.0 y.0) y.1) (λ y. joined goes operator item join (suc (length y.1)) (join x o.0 y.0) y.1)
    (λ y d. joined_same goes operator item join advances plain (length ts) (suc (length y.1)) (join x o.0 y.0) y.1
    (rest_shorter operator item advances plain ts o.1 y.1 o.0 y.0 e d) (lt-suc_self (length y.1)))))

joined_shrinks : {A O : Type 0} (goes : List Lexeme → Bool) (operator : Phrase O) (item : Phrase A) (join : A → O → A → A) → Plain operator → Plain item → (n : ℕ) (x : A) (ts : List Lexeme) → length (left_of (joined goes operator item join n x ts)) ≤ length ts
joined_shrinks goes operator item join f g zero x ts = le_refl (length ts)
joined_shrinks goes operator item join f g (suc n) x ts =
    chosen_shrinks (goes ts) (operator ts >>= (λ o. item o.1 >>= λ y. joined goes operator item join n (join x o.0 y.0) y.1)) (Ok (x, ts)) (length ts)
    (le_trans (bind_shrinks (operator ts) (λ o rest. item rest >>= λ y. joined goes operator item join n (join x o y.0) y.1)
    (λ o rest e. le_trans (bind_shrinks (item rest) (λ y left. joined goes operator item join n (join x o y) left) (λ y left d. joined_shrinks goes operator item join f g n (join x o y) left)) (g.shrinks rest)))
    (f.shrinks ts))
    (le_refl (length ts))

chain_shrinks : {A O : Type 0} (goes : List Lexeme → Bool) (operator : Phrase O) (item : Phrase A) (join : A → O → A → A) → Plain operator → Plain item → (x : A) (ts : List Lexeme) → length (left_of (chain goes operator item join x ts)) ≤ length ts
unfolding chain
chain_shrinks goes operator item join f g x ts = joined_shrinks goes operator item join f g (suc (length ts)) x ts

chain_fate : {A O : Type 0} (goes : List Lexeme → Bool) (operator : Phrase O) (item : Phrase A) (join : A → O → A → A) → Peeks goes → Advances operator → Plain operator → Plain item → (n : ℕ) (x : A) (u : List Lexeme) (t : Lexeme) → length u < n → Fate (chain goes operator item join x) u t
chain_fate goes operator item join peeks advances f g zero x u t less = absurd (omega arith)
chain_fate {A} {O} goes operator item join peeks advances f g (suc n) x u t less =
    let b = peeked goes peeks u t in
    let r : O → A → Phrase A = λ o y. chain goes operator item join (join x o y) in
    let q : O → Phrase A = λ o. continued item (r o) in
    let r_shrinks : (o : O) (y : A) (ts : List Lexeme) → length (left_of (r o y ts)) ≤ length ts = λ o y ts. chain_shrinks goes operator item join f g (join x o y) ts in
    fate_same (one_joined goes operator item join x) (chain goes operator item join x) u t (λ a. chain_unfold goes operator item join advances g x (u ++ t ∷ a))
    (fate_chosen goes (continued operator q) (λ ts. Ok (x, ts)) u t b.0 b.1
    (fate_then operator q u t
    (λ us o ts e. le_trans (bind_shrinks (item ts) (r o) (λ y left d. r_shrinks o y left)) (g.shrinks ts))
    (λ o v e. fate_then item (r o) v t (λ us y ts d. r_shrinks o y ts)
    (λ y w d.
    let shorter : length (w ++ t ∷ []) < length (u ++ t ∷ []) = rest_shorter operator item advances g (u ++ t ∷ []) (v ++ t ∷ []) (w ++ t ∷ []) o y (e []) (d []) in
    let less : length w < n = omega (arith, length-append w (t ∷ []), length-append u (t ∷ [])) in
    chain_fate goes operator item join peeks advances f g n (join x o y) w t less)
    (g.fate v t))
    (f.fate u t))
    (found x u (λ a. refl)))

pub chain_plain : {A O : Type 0} (goes : List Lexeme → Bool) (operator : Phrase O) (item : Phrase A) (join : A → O → A → A) → Peeks goes → Advances operator → Plain operator → Plain item → (x : A) → Plain (chain goes operator item join x)
chain_plain goes operator item join peeks advances f g x = record {
  shrinks = chain_shrinks goes operator item join f g x;
  fate = λ u t. chain_fate goes operator item join peeks advances f g (suc (length u)) x u t (lt-suc_self (length u));
}

-- ---- one token

-- A token is taken, or it is left.
pub data OneToken {A : Type 0} (read : Phrase A) (t : Lexeme) : Type 0 where
  taken : (x : A) → ((ts : List Lexeme) → read (t ∷ ts) ≡ Ok (x, ts)) → OneToken read t
  refused : ((ts : List Lexeme) → read (t ∷ ts) ≡ Err (here (t ∷ ts))) → OneToken read t

-- A reader of one token.
pub record Single {A : Type 0} (read : Phrase A) : Type 0 where
  pub at_end : read [] ≡ Err (here [])
  pub at_token : (t : Lexeme) → OneToken read t

single_shrinks : {A : Type 0} (read : Phrase A) (t : Lexeme) (ts : List Lexeme) → OneToken read t → length (left_of (read (t ∷ ts))) ≤ suc (length ts)
single_shrinks read t ts (taken x e) = rw (e ts) (omega arith)
single_shrinks read t ts (refused e) = rw (e ts) (le_refl (suc (length ts)))

single_shorter : {A : Type 0} (read : Phrase A) → Single read → (ts : List Lexeme) → length (left_of (read ts)) ≤ length ts
single_shorter read single [] = rw single.at_end (le_refl 0)
single_shorter read single (t ∷ ts) = single_shrinks read t ts (single.at_token t)

here_fate : {A : Type 0} (read : Phrase A) (t : Lexeme) → OneToken read t → Fate read [] t
here_fate read t (taken x e) = passed (λ a. rw (e a) (le_refl (length a)))
here_fate read t (refused e) = failed [] e

later_fate : {A : Type 0} (read : Phrase A) (y : Lexeme) (u : List Lexeme) (t : Lexeme) → OneToken read y → Fate read (y ∷ u) t
later_fate read y u t (taken x e) = found x u (λ a. e (u ++ t ∷ a))
later_fate read y u t (refused e) = failed (y ∷ u) (λ a. e (u ++ t ∷ a))

single_fate : {A : Type 0} (read : Phrase A) → Single read → (u : List Lexeme) (t : Lexeme) → Fate read u t
single_fate read single [] t = here_fate read t (single.at_token t)
single_fate read single (y ∷ u) t = later_fate read y u t (single.at_token y)

pub single_plain : {A : Type 0} (read : Phrase A) → Single read → Plain read
single_plain read single = record { shrinks = single_shorter read single; fate = single_fate read single }

fixed_single_at : (k : Kind) (t : Lexeme) (b : Bool) → is_kind k t.kind ≡ b → OneToken (fixed k) t
unfolding fixed
fixed_single_at k t true e = taken (spot_of t) (λ ts. rw e refl)
fixed_single_at k t false e = refused (λ ts. rw e refl)

pub fixed_single : (k : Kind) → Single (fixed k)
unfolding fixed
fixed_single k = record { at_end = refl; at_token = λ t. fixed_single_at k t (is_kind k t.kind) refl }

identifier_single_at : (t : Lexeme) (k : Kind) → t.kind ≡ k → OneToken identifier_at t
unfolding identifier_at
identifier_single_at t (identifier text) e = taken (record { text = text; spot = spot_of t }) (λ ts. rw e refl)
identifier_single_at t (number n) e = refused (λ ts. rw e refl)
identifier_single_at t (string n) e = refused (λ ts. rw e refl)
identifier_single_at t (reserved n) e = refused (λ ts. rw e refl)
identifier_single_at t (delimiter n) e = refused (λ ts. rw e refl)

pub identifier_single : Single identifier_at
unfolding identifier_at
identifier_single = record { at_end = refl; at_token = λ t. identifier_single_at t t.kind refl }

number_single_at : (t : Lexeme) (k : Kind) → t.kind ≡ k → OneToken number_at t
unfolding number_at
number_single_at t (number n) e = taken (n, spot_of t) (λ ts. rw e refl)
number_single_at t (identifier n) e = refused (λ ts. rw e refl)
number_single_at t (string n) e = refused (λ ts. rw e refl)
number_single_at t (reserved n) e = refused (λ ts. rw e refl)
number_single_at t (delimiter n) e = refused (λ ts. rw e refl)

pub number_single : Single number_at
unfolding number_at
number_single = record { at_end = refl; at_token = λ t. number_single_at t t.kind refl }

string_single_at : (t : Lexeme) (k : Kind) → t.kind ≡ k → OneToken string_at t
unfolding string_at
string_single_at t (string bytes) e = taken (bytes, spot_of t) (λ ts. rw e refl)
string_single_at t (identifier n) e = refused (λ ts. rw e refl)
string_single_at t (number n) e = refused (λ ts. rw e refl)
string_single_at t (reserved n) e = refused (λ ts. rw e refl)
string_single_at t (delimiter n) e = refused (λ ts. rw e refl)

pub string_single : Single string_at
unfolding string_at
string_single = record { at_end = refl; at_token = λ t. string_single_at t t.kind refl }

-- ---- nesting

-- what becomes of an opening token that was taken
abbrev allowed_at : ℕ → Spot → Phrase Spot
allowed_at room spot ts = allowed room (spot, ts)

allowed_plain : (room : ℕ) (spot : Spot) → Plain (allowed_at room spot)
allowed_plain zero spot = record { shrinks = λ ts. omega arith; fate = λ u t. sunk spot (λ a. refl) }
allowed_plain (suc room) spot = record { shrinks = λ ts. le_refl (length ts); fate = λ u t. found spot u (λ a. refl) }

pub opening_plain : (room : ℕ) (k : Kind) → Plain (opening_in room k)
opening_plain room k = continued_plain (fixed k) (allowed_at room) (single_plain (fixed k) (fixed_single k)) (λ ts spot rest e. allowed_plain room spot)

-- a phrase that is nowhere
abbrev pub failing_here : {A : Type 0} → Phrase A
failing_here ts = Err (here ts)

pub refuses_plain : {A : Type 0} → Plain (failing_here {A = A})
refuses_plain = record { shrinks = λ ts. le_refl (length ts); fate = λ u t. failed u (λ a. refl) }
