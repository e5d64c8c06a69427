-- Readers that open no level of nesting: reading never stops at one too many.
use Rattle.std.proofs.Common.{◌≡◌, ℕ, zero, suc, Bool, List, [], ◌∷◌, length, Ok, Err, inl, inr, sym, ◌∙◌}
use Rattle.ada_text.specs.declared.spot.Spot.{Spot}
use Rattle.ada_text.specs.Token.{Kind, Lexeme}
use Rattle.ada_reader.specs.Step.{◌>>=◌, here, too_deep, Outcome, Phrase, fixed, continued, mapped, both, after, choose, many, all_of}
use Rattle.ada_parser.proofs.Local.{OneToken, taken, refused, Single, fixed_single}
use Rattle.ada_parser.proofs.Sound.{bind_err, chosen}

-- Reading never stops at a level too many.
abbrev pub Shallow : {A : Type 0} → Phrase A → Type 0
Shallow read = (ts : List Lexeme) (spot : Spot) → read ts ≡ Err (too_deep spot) → ⊥

-- such an outcome is none of a token that is left
left_here : {A : Type 0} (read : Outcome A) (ts : List Lexeme) (spot : Spot) → read ≡ Err (here ts) → read ≡ Err (too_deep spot) → ⊥
left_here read ts spot e f = cc

token_shallow : {A : Type 0} (read : Phrase A) (t : Lexeme) (ts : List Lexeme) (spot : Spot) → OneToken read t → read (t ∷ ts) ≡ Err (too_deep spot) → ⊥
token_shallow read t ts spot (taken x h) e = (let q = sym (h ts) ∙ e in cc)
token_shallow read t ts spot (refused h) e = left_here (read (t ∷ ts)) (t ∷ ts) spot (h ts) e

pub single_shallow : {A : Type 0} (read : Phrase A) → Single read → Shallow read
single_shallow read single [] spot e = left_here (read []) [] spot single.at_end e
single_shallow read single (t ∷ ts) spot e = token_shallow read t ts spot (single.at_token t) e

pub continued_shallow : {A B : Type 0} (p : Phrase A) (q : A → Phrase B) → Shallow p → ((x : A) → Shallow (q x)) → Shallow (continued p q)
continued_shallow p q f g ts spot e =
    elim (bind_err (p ts) (λ x. q x.0 x.1) (too_deep spot) e) [
      | inl d ↦ f ts spot d
      | inr d ↦ g d.0.0 d.0.1 spot d.2
    ]

pub done_shallow : {A : Type 0} (x : A) → Shallow (λ ts. Ok (x, ts))
done_shallow x ts spot e = cc

pub mapped_shallow : {A B : Type 0} (f : A → B) (p : Phrase A) → Shallow p → Shallow (mapped f p)
mapped_shallow f p h = continued_shallow p (λ x ts. Ok (f x, ts)) h (λ x. done_shallow (f x))

pub both_shallow : {A B : Type 0} (p : Phrase A) (q : Phrase B) → Shallow p → Shallow q → Shallow (both p q)
both_shallow p q f g = continued_shallow p (λ x. mapped (λ y. (x, y)) q) f (λ x. mapped_shallow (λ y. (x, y)) q g)

pub after_shallow : {A : Type 0} (k : Kind) (p : Phrase A) → Shallow p → Shallow (after k p)
after_shallow k p f = continued_shallow (fixed k) (λ _. p) (single_shallow (fixed k) (fixed_single k)) (λ _. f)

pub choose_shallow : {A : Type 0} (test : List Lexeme → Bool) (p q : Phrase A) → Shallow p → Shallow q → Shallow (choose test p q)
choose_shallow test p q f g ts spot e =
    elim (chosen (test ts) (p ts) (q ts) (Err (too_deep spot)) e) [
      | inl h ↦ f ts spot h.1
      | inr h ↦ g ts spot h.1
    ]

many_shallow : {A : Type 0} (goes : List Lexeme → Bool) (item : Phrase A) → Shallow item → (n : ℕ) → Shallow (many goes item n)
many_shallow goes item h zero ts spot e = cc
many_shallow goes item h (suc n) ts spot e =
    elim (chosen (goes ts) (item ts >>= (λ x. many goes item n x.1 >>= λ xs. Ok (x.0 ∷ xs.0, xs.1))) (Ok ([], ts)) (Err (too_deep spot)) e) [
      | inl d ↦ continued_shallow item (λ x. mapped (λ xs. x ∷ xs) (many goes item n)) h (λ x. mapped_shallow (λ xs. x ∷ xs) (many goes item n) (many_shallow goes item h n)) ts spot d.1
      | inr d ↦ (let q = d.1 in cc)
    ]

pub all_shallow : {A : Type 0} (goes : List Lexeme → Bool) (item : Phrase A) → Shallow item → Shallow (all_of goes item)
unfolding all_of
all_shallow goes item h ts spot e = many_shallow goes item h (suc (length ts)) ts spot e
