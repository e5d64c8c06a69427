-- Reading phrases one after the other, as a loop does.
use Rattle.std.proofs.Common.{◌≡◌, ℕ, zero, suc, ◌<◌, Bool, true, false, List, [], ◌∷◌, ◌++◌, length, map, Ok, Err, refl, sym, ap, ◌∙◌, append_assoc, arith}
use Rattle.std.proofs.lemmas.List.{append-nil, map-append}
use Rattle.ada_text.specs.declared.token.Token.{Token}
use Rattle.ada_text.specs.Token.{Lexeme, lexemes_of}
use Rattle.ada_reader.specs.declared.reader.Stop.{Stop}
use Rattle.ada_reader.specs.declared.reader.Stop.TheVariants.{Here, TooDeep, NoMemory}
use Rattle.ada_reader.specs.Step.{◌>>=◌, Phrase, Outcome, Stopped, here, too_deep, Stops, many, all_of, joined, chain}

-- what was read before, and what is still read
abbrev pub with_front : {A : Type 0} → List A → Outcome (List A) → Outcome (List A)
with_front front read = read >>= λ x. Ok (front ++ x.0, x.1)

-- What was read and what will be, by a bound that is large enough, is the whole.
pub record Going {A : Type 0} (goes : List Lexeme → Bool) (item : Phrase A) (front : List A) (left : List Token) (total : Outcome (List A)) : Type 0 where
  pub bound : ℕ
  pub enough : length left < bound
  pub so_far : with_front front (many goes item bound (lexemes_of left)) ≡ total

regroup : {A : Type 0} (front : List A) (x : A) (read : Outcome (List A)) → with_front front (read >>= λ xs. Ok (x ∷ xs.0, xs.1)) ≡ with_front (front ++ x ∷ []) read
regroup front x (Ok xs) = ap (λ ys. Ok (ys, xs.1)) (sym (append_assoc front (x ∷ []) xs.0))
regroup front x (Err stop) = refl

no_front : {A : Type 0} (read : Outcome (List A)) → with_front [] read ≡ read
no_front (Ok xs) = refl
no_front (Err stop) = refl

pub length_lexemes : (tokens : List Token) → length (lexemes_of tokens) ≡ length tokens
length_lexemes [] = refl
length_lexemes (t ∷ tokens) = ap suc (length_lexemes tokens)

pub begins : {A : Type 0} (goes : List Lexeme → Bool) (item : Phrase A) (front : List A) (tokens : List Token) → front ≡ [] → Going goes item front tokens (all_of goes item (lexemes_of tokens))
unfolding all_of
begins goes item front tokens e = record {
  bound = suc (length (lexemes_of tokens));
  enough = omega (arith, length_lexemes tokens);
  so_far = ap (λ ys. with_front ys (many goes item (suc (length (lexemes_of tokens))) (lexemes_of tokens))) e ∙ no_front (many goes item (suc (length (lexemes_of tokens))) (lexemes_of tokens));
}

step : {A : Type 0} (goes : List Lexeme → Bool) (item : Phrase A) (front : List A) (n : ℕ) (left after : List Token) (x : A) (total : Outcome (List A)) → length left < n → with_front front (many goes item n (lexemes_of left)) ≡ total → goes (lexemes_of left) ≡ true → item (lexemes_of left) ≡ Ok (x, lexemes_of after) → length after < length left → Going goes item (front ++ x ∷ []) after total
step goes item front zero left after x total enough so_far g e less = absurd (omega arith)
step goes item front (suc n) left after x total enough so_far g e less =
    let one : with_front front (many goes item (suc n) (lexemes_of left)) ≡ with_front (front ++ x ∷ []) (many goes item n (lexemes_of after)) = rw (g, e) (regroup front x (many goes item n (lexemes_of after))) in
    record { bound = n; enough = omega arith; so_far = sym one ∙ so_far }

pub goes_on : {A : Type 0} {goes : List Lexeme → Bool} {item : Phrase A} {front : List A} {left after : List Token} {x : A} {total : Outcome (List A)} → Going goes item front left total → goes (lexemes_of left) ≡ true → item (lexemes_of left) ≡ Ok (x, lexemes_of after) → length after < length left → Going goes item (front ++ x ∷ []) after total
goes_on {A} {goes} {item} {front} {left} {after} {x} {total} going g e less = step goes item front going.bound left after x total going.enough going.so_far g e less

fails : {A : Type 0} (goes : List Lexeme → Bool) (item : Phrase A) (front : List A) (n : ℕ) (left : List Token) (stopped : Stopped) (total : Outcome (List A)) → length left < n → with_front front (many goes item n (lexemes_of left)) ≡ total → goes (lexemes_of left) ≡ true → item (lexemes_of left) ≡ Err stopped → total ≡ Err stopped
fails goes item front zero left stopped total enough so_far g e = absurd (omega arith)
fails goes item front (suc n) left stopped total enough so_far g e =
    let one : with_front front (many goes item (suc n) (lexemes_of left)) ≡ Err stopped = rw (g, e) refl in
    sym so_far ∙ one

ends_so : {A : Type 0} (stop : Stop) (goes : List Lexeme → Bool) (item : Phrase A) (front : List A) (left after : List Token) (total : Outcome (List A)) → Going goes item front left total → goes (lexemes_of left) ≡ true → Stops stop after (item (lexemes_of left)) → Stops stop after total
ends_so Here goes item front left after total going g e = fails goes item front going.bound left (here (lexemes_of after)) total going.enough going.so_far g e
ends_so (TooDeep spot) goes item front left after total going g e = fails goes item front going.bound left (too_deep spot) total going.enough going.so_far g e
ends_so NoMemory goes item front left after total going g e = tt

pub ends : {A : Type 0} {goes : List Lexeme → Bool} {item : Phrase A} {front : List A} {left : List Token} {total : Outcome (List A)} (stop : Stop) (after : List Token) → Going goes item front left total → goes (lexemes_of left) ≡ true → Stops stop after (item (lexemes_of left)) → Stops stop after total
ends {A} {goes} {item} {front} {left} {total} stop after going g e = ends_so stop goes item front left after total going g e

finished : {A : Type 0} (goes : List Lexeme → Bool) (item : Phrase A) (front : List A) (n : ℕ) (left : List Token) (total : Outcome (List A)) → length left < n → with_front front (many goes item n (lexemes_of left)) ≡ total → goes (lexemes_of left) ≡ false → total ≡ Ok (front, lexemes_of left)
finished goes item front zero left total enough so_far g = absurd (omega arith)
finished goes item front (suc n) left total enough so_far g =
    let one : with_front front (many goes item (suc n) (lexemes_of left)) ≡ Ok (front, lexemes_of left) = rw g (ap (λ xs. Ok (xs, lexemes_of left)) (append-nil front)) in
    sym so_far ∙ one

pub is_done : {A : Type 0} {goes : List Lexeme → Bool} {item : Phrase A} {front : List A} {left : List Token} {total : Outcome (List A)} → Going goes item front left total → goes (lexemes_of left) ≡ false → total ≡ Ok (front, lexemes_of left)
is_done {A} {goes} {item} {front} {left} {total} going g = finished goes item front going.bound left total going.enough going.so_far g

-- Reading one after the other into a list of the code, whose elements are seen as trees.

pub begins_list : {X A : Type 0} {goes : List Lexeme → Bool} {item : Phrase A} {items : List X} {tokens : List Token} (view : X → A) → items ≡ [] → Going goes item (map view items) tokens (all_of goes item (lexemes_of tokens))
begins_list {X} {A} {goes} {item} {items} {tokens} view e = begins goes item (map view items) tokens (ap (map view) e)

pub goes_on_push : {X A : Type 0} {goes : List Lexeme → Bool} {item : Phrase A} {more : List X} {left after : List Token} {total : Outcome (List A)} (view : X → A) (items : List X) (x : X) → more ≡ items ++ x ∷ [] → Going goes item (map view items) left total → goes (lexemes_of left) ≡ true → item (lexemes_of left) ≡ Ok (view x, lexemes_of after) → length after < length left → Going goes item (map view more) after total
goes_on_push {X} {A} {goes} {item} {more} {left} {after} {total} view items x pushed going g e less =
    let now : map view more ≡ map view items ++ view x ∷ [] = ap (map view) pushed ∙ map-append view items (x ∷ []) in
    rw now (goes_on going g e less)

-- What is joined from what was read and what will be, by a bound that is large enough, is the whole.
pub record Joining {A O : Type 0} (goes : List Lexeme → Bool) (operator : Phrase O) (item : Phrase A) (join : A → O → A → A) (front : A) (left : List Token) (total : Outcome A) : Type 0 where
  pub bound : ℕ
  pub enough : length left < bound
  pub so_far : joined goes operator item join bound front (lexemes_of left) ≡ total

pub begins_chain : {A O : Type 0} (goes : List Lexeme → Bool) (operator : Phrase O) (item : Phrase A) (join : A → O → A → A) (front : A) (tokens : List Token) → Joining goes operator item join front tokens (chain goes operator item join front (lexemes_of tokens))
unfolding chain
begins_chain goes operator item join front tokens = record {
  bound = suc (length (lexemes_of tokens));
  enough = omega (arith, length_lexemes tokens);
  so_far = refl;
}

join_step : {A O : Type 0} (goes : List Lexeme → Bool) (operator : Phrase O) (item : Phrase A) (join : A → O → A → A) (front : A) (n : ℕ) (left middle after : List Token) (o : O) (x : A) (total : Outcome A) → length left < n → joined goes operator item join n front (lexemes_of left) ≡ total → goes (lexemes_of left) ≡ true → operator (lexemes_of left) ≡ Ok (o, lexemes_of middle) → item (lexemes_of middle) ≡ Ok (x, lexemes_of after) → length after < length left → Joining goes operator item join (join front o x) after total
join_step goes operator item join front zero left middle after o x total enough so_far g d e less = absurd (omega arith)
join_step goes operator item join front (suc n) left middle after o x total enough so_far g d e less =
    let one : joined goes operator item join (suc n) front (lexemes_of left) ≡ joined goes operator item join n (join front o x) (lexemes_of after) = rw (g, d, e) refl in
    record { bound = n; enough = omega arith; so_far = sym one ∙ so_far }

pub joins_on : {A O : Type 0} {goes : List Lexeme → Bool} {operator : Phrase O} {item : Phrase A} {join : A → O → A → A} {front : A} {left after : List Token} {o : O} {x : A} {total : Outcome A} (middle : List Token) → Joining goes operator item join front left total → goes (lexemes_of left) ≡ true → operator (lexemes_of left) ≡ Ok (o, lexemes_of middle) → item (lexemes_of middle) ≡ Ok (x, lexemes_of after) → length after < length left → Joining goes operator item join (join front o x) after total
joins_on {A} {O} {goes} {operator} {item} {join} {front} {left} {after} {o} {x} {total} middle joining g d e less = join_step goes operator item join front joining.bound left middle after o x total joining.enough joining.so_far g d e less

no_operator : {A O : Type 0} (goes : List Lexeme → Bool) (operator : Phrase O) (item : Phrase A) (join : A → O → A → A) (front : A) (n : ℕ) (left : List Token) (stopped : Stopped) (total : Outcome A) → length left < n → joined goes operator item join n front (lexemes_of left) ≡ total → goes (lexemes_of left) ≡ true → operator (lexemes_of left) ≡ Err stopped → total ≡ Err stopped
no_operator goes operator item join front zero left stopped total enough so_far g e = absurd (omega arith)
no_operator goes operator item join front (suc n) left stopped total enough so_far g e =
    let one : joined goes operator item join (suc n) front (lexemes_of left) ≡ Err stopped = rw (g, e) refl in
    sym so_far ∙ one

no_item : {A O : Type 0} (goes : List Lexeme → Bool) (operator : Phrase O) (item : Phrase A) (join : A → O → A → A) (front : A) (n : ℕ) (left middle : List Token) (o : O) (stopped : Stopped) (total : Outcome A) → length left < n → joined goes operator item join n front (lexemes_of left) ≡ total → goes (lexemes_of left) ≡ true → operator (lexemes_of left) ≡ Ok (o, lexemes_of middle) → item (lexemes_of middle) ≡ Err stopped → total ≡ Err stopped
no_item goes operator item join front zero left middle o stopped total enough so_far g d e = absurd (omega arith)
no_item goes operator item join front (suc n) left middle o stopped total enough so_far g d e =
    let one : joined goes operator item join (suc n) front (lexemes_of left) ≡ Err stopped = rw (g, d, e) refl in
    sym so_far ∙ one

no_operator_so : {A O : Type 0} (stop : Stop) (goes : List Lexeme → Bool) (operator : Phrase O) (item : Phrase A) (join : A → O → A → A) (front : A) (left after : List Token) (total : Outcome A) → Joining goes operator item join front left total → goes (lexemes_of left) ≡ true → Stops stop after (operator (lexemes_of left)) → Stops stop after total
no_operator_so Here goes operator item join front left after total joining g e = no_operator goes operator item join front joining.bound left (here (lexemes_of after)) total joining.enough joining.so_far g e
no_operator_so (TooDeep spot) goes operator item join front left after total joining g e = no_operator goes operator item join front joining.bound left (too_deep spot) total joining.enough joining.so_far g e
no_operator_so NoMemory goes operator item join front left after total joining g e = tt

no_item_so : {A O : Type 0} (stop : Stop) (goes : List Lexeme → Bool) (operator : Phrase O) (item : Phrase A) (join : A → O → A → A) (front : A) (left middle after : List Token) (o : O) (total : Outcome A) → Joining goes operator item join front left total → goes (lexemes_of left) ≡ true → operator (lexemes_of left) ≡ Ok (o, lexemes_of middle) → Stops stop after (item (lexemes_of middle)) → Stops stop after total
no_item_so Here goes operator item join front left middle after o total joining g d e = no_item goes operator item join front joining.bound left middle o (here (lexemes_of after)) total joining.enough joining.so_far g d e
no_item_so (TooDeep spot) goes operator item join front left middle after o total joining g d e = no_item goes operator item join front joining.bound left middle o (too_deep spot) total joining.enough joining.so_far g d e
no_item_so NoMemory goes operator item join front left middle after o total joining g d e = tt

pub lacks_operator : {A O : Type 0} {goes : List Lexeme → Bool} {operator : Phrase O} {item : Phrase A} {join : A → O → A → A} {front : A} {left : List Token} {total : Outcome A} (stop : Stop) (after : List Token) → Joining goes operator item join front left total → goes (lexemes_of left) ≡ true → Stops stop after (operator (lexemes_of left)) → Stops stop after total
lacks_operator {A} {O} {goes} {operator} {item} {join} {front} {left} {total} stop after joining g e = no_operator_so stop goes operator item join front left after total joining g e

pub lacks_item : {A O : Type 0} {goes : List Lexeme → Bool} {operator : Phrase O} {item : Phrase A} {join : A → O → A → A} {front : A} {left : List Token} {total : Outcome A} (stop : Stop) (middle after : List Token) (o : O) → Joining goes operator item join front left total → goes (lexemes_of left) ≡ true → operator (lexemes_of left) ≡ Ok (o, lexemes_of middle) → Stops stop after (item (lexemes_of middle)) → Stops stop after total
lacks_item {A} {O} {goes} {operator} {item} {join} {front} {left} {total} stop middle after o joining g d e = no_item_so stop goes operator item join front left middle after o total joining g d e

all_joined : {A O : Type 0} (goes : List Lexeme → Bool) (operator : Phrase O) (item : Phrase A) (join : A → O → A → A) (front : A) (n : ℕ) (left : List Token) (total : Outcome A) → length left < n → joined goes operator item join n front (lexemes_of left) ≡ total → goes (lexemes_of left) ≡ false → total ≡ Ok (front, lexemes_of left)
all_joined goes operator item join front zero left total enough so_far g = absurd (omega arith)
all_joined goes operator item join front (suc n) left total enough so_far g =
    let one : joined goes operator item join (suc n) front (lexemes_of left) ≡ Ok (front, lexemes_of left) = rw g refl in
    sym so_far ∙ one

pub is_joined : {A O : Type 0} {goes : List Lexeme → Bool} {operator : Phrase O} {item : Phrase A} {join : A → O → A → A} {front : A} {left : List Token} {total : Outcome A} → Joining goes operator item join front left total → goes (lexemes_of left) ≡ false → total ≡ Ok (front, lexemes_of left)
is_joined {A} {O} {goes} {operator} {item} {join} {front} {left} {total} joining g = all_joined goes operator item join front joining.bound left total joining.enough joining.so_far g

-- behind what was read before
pub resumes : {A : Type 0} (goes : List Lexeme → Bool) (item : Phrase A) (front : List A) (tokens : List Token) → Going goes item front tokens (with_front front (all_of goes item (lexemes_of tokens)))
unfolding all_of
resumes goes item front tokens = record {
  bound = suc (length (lexemes_of tokens));
  enough = omega (arith, length_lexemes tokens);
  so_far = refl;
}

pub stops_mapped : {A B : Type 0} (stop : Stop) (f : A → B) (after : List Token) (read : Outcome A) → Stops stop after read → Stops stop after (read >>= λ x. Ok (f x.0, x.1))
stops_mapped Here f after read e = rw e refl
stops_mapped (TooDeep spot) f after read e = rw e refl
stops_mapped NoMemory f after read e = tt
