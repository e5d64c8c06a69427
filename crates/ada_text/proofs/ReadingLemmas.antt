-- Readings of a source: one step more, and that there is one.
use Rattle.std.proofs.lemmas.Bool.{cases_lt}
use Rattle.std.proofs.Common.{◌⊎◌, inl, inr, ◌≡◌, ℕ, ◌+◌, ◌-◌, ◌<◌, ◌≤◌, List, [], ◌∷◌, ◌++◌, length, drop, take, refl, ap, sym, ◌∙◌, subst, arith, Err}
use Rattle.std.proofs.lemmas.List.{drop_all, length-drop, append_assoc, map-append}
use Rattle.std.specs.List.{AllPass}
use Rattle.ada_text.specs.declared.element.Flaw.{Flaw}
use Rattle.ada_text.specs.declared.element.Flaw.TheVariants.{ByteNotAllowed, OpenString, NumberRange, IdentifierForm}
use Rattle.ada_text.specs.declared.element.Refusal.{Refusal}
use Rattle.ada_text.specs.declared.element.Refusal.TheVariants.{Flaw as AFlaw, NoMemory as OutOfMemory}
use Rattle.ada_text.specs.declared.fault.TextFault.{TextFault}
use Rattle.ada_text.specs.declared.fault.TextFault.TheVariants.{ByteNotAllowed as NotAllowedAt, OpenString as OpenAt, NumberRange as RangeAt, SourceTooLong, IdentifierForm as FormAt, NoMemory}
use Rattle.ada_text.specs.declared.limits.TheConstants.{LONGEST_SOURCE}
use Rattle.ada_text.specs.declared.spot.Spot.{Spot}
use Rattle.ada_text.specs.declared.token.Token.{Token}
use Rattle.ada_text.specs.Bytes.{stays_on_line}
use Rattle.ada_text.specs.Place.{line_after, column_after, StandsIn}
use Rattle.ada_text.specs.Gap.{next_start}
use Rattle.ada_text.specs.Element.{nothing, token, flaw, element}
use Rattle.ada_text.specs.Refusal.{Gives}
use Rattle.ada_text.specs.Token.{Kind, Lexeme, lexeme_of, lexemes_of}
use Rattle.ada_text.specs.Reading.{IsTokenAt, IsFlawAt, Ending, complete, broken, EndsAt, Reads, Spells, BreaksAt, Names, fault_of, IsFirstFault}
use Rattle.ada_text.proofs.ElementLemmas.{element_takes}

-- a refusal names the flaw that stands there
pub refusal_names : (source : List ℕ) (i : ℕ) (spot : Spot) (refusal : Refusal) → Gives (Err refusal) (element (drop i source))
    → spot.line ≡ line_after (take i source) → spot.column ≡ column_after (take i source) → Names (IsFlawAt source i) ⊥ (fault_of spot refusal)
refusal_names source i spot (AFlaw ByteNotAllowed) e l c = record { spelled = e; line = l; column = c }
refusal_names source i spot (AFlaw OpenString) e l c = record { spelled = e; line = l; column = c }
refusal_names source i spot (AFlaw NumberRange) e l c = record { spelled = e; line = l; column = c }
refusal_names source i spot (AFlaw IdentifierForm) e l c = record { spelled = e; line = l; column = c }
refusal_names source i spot OutOfMemory e l c = tt

-- behind some tokens it is the first fault
pub fault_behind : (source : List ℕ) (i : ℕ) (ts : List Lexeme) (fault : TextFault) → length source ≤ LONGEST_SOURCE
    → ((end : Ending) → EndsAt source i end → Reads source (next_start source 0) ts end) → Names (IsFlawAt source i) ⊥ fault → IsFirstFault source fault
fault_behind source i ts (NotAllowedAt spot) l joins h = record { limit = l; ts = ts; reads = joins (broken spot ByteNotAllowed) h }
fault_behind source i ts (OpenAt spot) l joins h = record { limit = l; ts = ts; reads = joins (broken spot OpenString) h }
fault_behind source i ts (RangeAt spot) l joins h = record { limit = l; ts = ts; reads = joins (broken spot NumberRange) h }
fault_behind source i ts (FormAt spot) l joins h = record { limit = l; ts = ts; reads = joins (broken spot IdentifierForm) h }
fault_behind source i ts SourceTooLong l joins h = absurd h
fault_behind source i ts NoMemory l joins h = tt

-- past the end nothing stands
pub nothing_behind : (source : List ℕ) (i : ℕ) → drop i source ≡ [] → element (drop i source) ≡ nothing
unfolding element
nothing_behind source i e = ap element e

-- so where a token stands the source has not ended
pub token_inside : (source : List ℕ) (i : ℕ) (t : Lexeme) → IsTokenAt source i t → i < length source
token_inside source i t h = by_place (cases_lt i (length source))
  where
    by_place : (i < length source) ⊎ (length source ≤ i) → i < length source
    by_place (inl l) = l
    by_place (inr l) = let no : nothing ≡ token t.kind h.len = sym (nothing_behind source i (drop_all i source l)) ∙ h.spelled in cc

-- a token takes some bytes of the source, and they stay on its line
pub record TakesAt (source : List ℕ) (i len : ℕ) : Type 0 where
  pub some : 0 < len
  pub within : i + len ≤ length source
  pub on_line : AllPass stays_on_line (take len (drop i source))

pub takes_at : (source : List ℕ) (i : ℕ) (t : Lexeme) → i < length source → (h : IsTokenAt source i t) → TakesAt source i h.len
takes_at source i t l h =
    let takes = element_takes (drop i source) t.kind h.len (simp length-drop (omega arith)) h.spelled in
    record { some = takes.some; within = omega (arith, takes.within, length-drop i source); on_line = takes.on_line }

-- the tokens so far, with one more
pub lexemes_of-push : (found : List Token) (t : Token) (ts : List Lexeme) → lexemes_of (found ++ t ∷ []) ++ ts ≡ lexemes_of found ++ lexeme_of t ∷ ts
lexemes_of-push found t ts = rw (map-append lexeme_of found (t ∷ []), append_assoc) refl

-- the same, by the token's own ends
pub token_takes : (source : List ℕ) (i : ℕ) (t : Lexeme) → i < length source → IsTokenAt source i t → TakesAt source i (t.to - t.from)
token_takes source i t l h =
    let len : h.len ≡ t.to - t.from = omega (arith, h.to, h.from) in
    subst (TakesAt source i) len (takes_at source i t l h)

-- the place behind the token, and behind what stands between it and the next
pub next_place : (source : List ℕ) (i p q : ℕ) (t : Lexeme) → i < length source → IsTokenAt source i t → p ≡ i + (t.to - t.from) → q ≡ next_start source p → (next_start source t.to ≡ q) × (i < q)
next_place source i p q t l h past gap =
    let takes = token_takes source i t l h in
    let behind : p ≡ t.to = omega (arith, h.to, h.from) in
    (sym (gap ∙ ap (next_start source) behind), omega (arith, takes.some))

-- a reading from the next place on, with the token in front
pub joins_token : (source : List ℕ) (i p q : ℕ) (found : List Token) (t : Token) → i < length source → IsTokenAt source i (lexeme_of t) → p ≡ i + (t.to - t.from) → q ≡ next_start source p
    → ((ts : List Lexeme) (end : Ending) → Reads source i ts end → Reads source (next_start source 0) (lexemes_of found ++ ts) end)
    → (ts : List Lexeme) (end : Ending) → Reads source q ts end → Reads source (next_start source 0) (lexemes_of (found ++ t ∷ []) ++ ts) end
joins_token source i p q found t l h past gap joins ts end r =
    let there = (next_place source i p q (lexeme_of t) l h past gap).0 in
    let more = joins (lexeme_of t ∷ ts) end (h, subst (λ n. Reads source n ts end) (sym there) r) in
    subst (λ ls. Reads source (next_start source 0) ls end) (sym (lexemes_of-push found t ts)) more

-- before the first byte
pub StandsIn_start : (source : List ℕ) → StandsIn source (record { at = 0; line = 1; column = 1 })
unfolding line_after column_after
StandsIn_start source = record { within = omega arith; line = refl; column = refl }

-- what has the same parts is the same
made : Kind → ℕ → ℕ → ℕ → ℕ → Lexeme
made kind line column from to = record { kind = kind; line = line; column = column; from = from; to = to }

same_parts : (t u : Lexeme) → t.kind ≡ u.kind → t.line ≡ u.line → t.column ≡ u.column → t.from ≡ u.from → t.to ≡ u.to → t ≡ u
unfolding made
same_parts t u kind line column from to =
    let same : made t.kind t.line t.column t.from t.to ≡ made u.kind u.line u.column u.from u.to = cc in same

spot_at : ℕ → ℕ → Spot
spot_at line column = record { line = line; column = column }

same_spot : (s r : Spot) → s.line ≡ r.line → s.column ≡ r.column → s ≡ r
unfolding spot_at
same_spot s r line column = let same : spot_at s.line s.column ≡ spot_at r.line r.column = cc in same

-- one token stands at a place
same_token : (source : List ℕ) (i : ℕ) (t u : Lexeme) → IsTokenAt source i t → IsTokenAt source i u → t ≡ u
same_token source i t u h k =
    let same : token t.kind h.len ≡ token u.kind k.len = sym h.spelled ∙ k.spelled in
    let kind : t.kind ≡ u.kind = cc in
    let len : h.len ≡ k.len = cc in
    let to : t.to ≡ u.to = omega (arith, h.to, k.to) in
    same_parts t u kind (h.line ∙ sym k.line) (h.column ∙ sym k.column) (h.from ∙ sym k.from) to

same_end : (source : List ℕ) (i : ℕ) (e f : Ending) → EndsAt source i e → EndsAt source i f → e ≡ f
same_end source i complete complete h k = refl
same_end source i complete (broken s f) h k = let no : nothing ≡ flaw f = sym (nothing_behind source i h) ∙ k.spelled in cc
same_end source i (broken s f) complete h k = let no : nothing ≡ flaw f = sym (nothing_behind source i k) ∙ h.spelled in cc
same_end source i (broken s f) (broken r g) h k =
    let flaws : flaw f ≡ flaw g = sym h.spelled ∙ k.spelled in
    let spots : s ≡ r = same_spot s r (h.line ∙ sym k.line) (h.column ∙ sym k.column) in
    cc

no_end : (source : List ℕ) (i : ℕ) (t : Lexeme) (e : Ending) → IsTokenAt source i t → EndsAt source i e → ⊥
no_end source i t complete h k = let no : nothing ≡ token t.kind h.len = sym (nothing_behind source i k) ∙ h.spelled in cc
no_end source i t (broken s f) h k = let no : flaw f ≡ token t.kind h.len = sym k.spelled ∙ h.spelled in cc

-- from a place on there is one reading
pub one_reading : (source : List ℕ) (i : ℕ) (ts us : List Lexeme) (e f : Ending) → Reads source i ts e → Reads source i us f → (ts ≡ us) × (e ≡ f)
one_reading source i [] [] e f h k = (refl, same_end source i e f h k)
one_reading source i [] (u ∷ us) e f h k = absurd (no_end source i u e k.0 h)
one_reading source i (t ∷ ts) [] e f h k = absurd (no_end source i t f h.0 k)
one_reading source i (t ∷ ts) (u ∷ us) e f h k =
    let same = same_token source i t u h.0 k.0 in
    let rest = one_reading source (next_start source t.to) ts us e f h.1 (subst (λ v. Reads source (next_start source v.to) us f) (sym same) k.1) in
    (let front : t ∷ ts ≡ u ∷ us = cc (rest.0) in front, rest.1)

pub one_spelling : (source : List ℕ) (ts us : List Lexeme) → Spells source ts → Spells source us → ts ≡ us
one_spelling source ts us h k = (one_reading source (next_start source 0) ts us complete complete h.reads k.reads).0

-- what breaks at a flaw has no tokens
no_spelling_broken : (source : List ℕ) (ts : List Lexeme) (spot : Spot) (f : Flaw) → Spells source ts → BreaksAt source spot f → ⊥
no_spelling_broken source ts spot f h k =
    let same = (one_reading source (next_start source 0) ts k.ts complete (broken spot f) h.reads k.reads).1 in cc

pub no_spelling : (source : List ℕ) (ts : List Lexeme) (fault : TextFault) → IsFirstFault source fault → Spells source ts → fault ≡ NoMemory
no_spelling source ts (NotAllowedAt spot) h k = absurd (no_spelling_broken source ts spot ByteNotAllowed k h)
no_spelling source ts (OpenAt spot) h k = absurd (no_spelling_broken source ts spot OpenString k h)
no_spelling source ts (RangeAt spot) h k = absurd (no_spelling_broken source ts spot NumberRange k h)
no_spelling source ts (FormAt spot) h k = absurd (no_spelling_broken source ts spot IdentifierForm k h)
no_spelling source ts SourceTooLong h k = absurd (omega (arith, k.limit))
no_spelling source ts NoMemory h k = refl
