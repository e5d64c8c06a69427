-- The tokens of a source stand in the order of its text, and so do the marks of its tree.

use Rattle.std.proofs.Common.{◌≡◌, ℕ, zero, suc, ◌+◌, ◌-◌, ◌<◌, ◌≤◌, Bool, true, false, eqb, ◌||◌, ◌&&◌, List, [], ◌∷◌, length, take, get_or, arith, refl, ap, ap₂, sym, subst, ◌∙◌, inl, inr, add-zero, add-sub_of_le, take_all}
use Rattle.std.proofs.lemmas.Bool.{cases_lt, eqb-true}
use Rattle.std.specs.Prelude.{nat_lt, ◌==◌}
use Rattle.std.proofs.lemmas.Bool.Decides.{nat_tests}
use Rattle.ada_text.specs.declared.spot.Spot.{Spot}
use Rattle.ada_text.specs.Gap.{gap_len, next_start}
use Rattle.ada_text.specs.Place.{line_after, column_after}
use Rattle.ada_text.specs.Reading.{Ending, IsTokenAt, Reads}
use Rattle.ada_text.specs.Token.{Lexeme}
use Rattle.ada_text.proofs.PlaceLemmas.{line_after-feed, column_after-feed, line_after-more, column_after-more}
use Rattle.ada_front.specs.Front.{stands_before}
use Rattle.ada_front.specs.Laws.{TreesAreInOrder}
use Rattle.ada_front.specs.Marks.{Mark, mark_spot, InOrder, IsFirst, unit_marks}
use Rattle.ada_front.proofs.Texts.{StandsAt, Marked, none, skips, stands, unit_marked}

-- Where a token stands.
abbrev spot_of : Lexeme → Spot
spot_of t = record { line = t.line; column = t.column }

-- None of these tokens stands before a place.
abbrev NoneBefore : Spot → List Lexeme → Type 0
NoneBefore spot [] = Unit {0}
NoneBefore spot (u ∷ us) = (stands_before (spot_of u) spot ≡ false) × NoneBefore spot us

-- Nor before one in front of it.
abbrev AreSorted : List Lexeme → Type 0
AreSorted [] = Unit {0}
AreSorted (t ∷ ts) = NoneBefore (spot_of t) ts × AreSorted ts

-- A place does not stand before another one.
abbrev IsLater : Spot → Spot → Type 0
IsLater a b = (a.line ≤ b.line) × (b.line ≤ a.line → a.column ≤ b.column)

not_before : (a b : Spot) → IsLater a b → stands_before b a ≡ false
not_before a b later = go a.line a.column b.line b.column later.0 later.1
  where
    go : (k c l d : ℕ) → k ≤ l → (l ≤ k → c ≤ d) → (nat_lt l k || ((l == k) && nat_lt d c)) ≡ false
    go k c l d lines columns = grind (arith, nat_tests)

-- The place of a byte.
abbrev place : List ℕ → ℕ → Spot
place source i = record { line = line_after (take i source); column = column_after (take i source) }

-- What comes later in a source stands later in its text.
next_later : (source : List ℕ) (i : ℕ) → IsLater (place source i) (place source (i + 1))
next_later source i = elim (cases_lt i (length source)) [ inl lt ↦ by_byte lt (eqb (get_or source i 0) 10) refl | inr le ↦ past_end le ]
  where
    by_byte : i < length source → (feed : Bool) → eqb (get_or source i 0) 10 ≡ feed → IsLater (place source i) (place source (i + 1))
    by_byte lt true is =
        let line = line_after-feed source i lt (eqb-true (get_or source i 0) 10 is) in
        (omega (arith, line), λ le. absurd (omega (arith, line, le)))
    by_byte lt false is =
        let line = line_after-more source i lt is in
        let column = column_after-more source i lt is in
        (omega (arith, line), λ le. omega (arith, column))

    past_end : length source ≤ i → IsLater (place source i) (place source (i + 1))
    past_end le =
        let here = take_all i source le in
        let next = take_all (i + 1) source (omega (arith, le)) in
        let line = ap line_after (next ∙ sym here) in
        let column = ap column_after (next ∙ sym here) in
        (omega (arith, line), λ below. omega (arith, column))

later_by : (source : List ℕ) (i n : ℕ) → IsLater (place source i) (place source (i + n))
later_by source i zero = rw add-zero (omega arith, λ below. omega arith)
later_by source i (suc n) =
    let so_far = later_by source i n in
    let more = next_later source (i + n) in
    let next : i + n + 1 ≡ i + suc n = omega arith in
    subst (λ (k : ℕ). IsLater (place source i) (place source k)) next (further so_far more)
  where
    further : {a b c : Spot} → IsLater a b → IsLater b c → IsLater a c
    further one other =
        (omega (arith, one.0, other.0), λ below. let l = one.1 (omega (arith, other.0, below)) in let r = other.1 (omega (arith, one.0, below)) in omega (arith, l, r))

later : (source : List ℕ) (i j : ℕ) → i ≤ j → IsLater (place source i) (place source j)
later source i j le = subst (λ (k : ℕ). IsLater (place source i) (place source k)) (add-sub_of_le le) (later_by source i (j - i))

-- Places by their lines and columns.
same_spot : (a b : Spot) → a.line ≡ b.line → a.column ≡ b.column → a ≡ b
same_spot a b lines columns = ap₂ spot_at lines columns
  where
    spot_at : (line column : ℕ) → Spot
    spot_at line column = record { line = line; column = column }

-- No token that is read later stands before one.
none_before : (source : List ℕ) (t : Lexeme) (i j : ℕ) (ts : List Lexeme) (end : Ending) → spot_of t ≡ place source i → i ≤ j → Reads source j ts end
    → NoneBefore (spot_of t) ts
none_before source t i j [] end is le reads = tt
none_before source t i j (u ∷ us) end is le reads =
    let there : spot_of u ≡ place source j = same_spot (spot_of u) (place source j) reads.0.line reads.0.column in (
      ap₂ stands_before there is ∙ not_before (place source i) (place source j) (later source i j le),
      none_before source t i (next_start source u.to) us end is (omega (arith, le, reads.0.to)) reads.1,
    )

sorted : (source : List ℕ) (i : ℕ) (ts : List Lexeme) (end : Ending) → Reads source i ts end → AreSorted ts
sorted source i [] end reads = tt
sorted source i (t ∷ ts) end reads = (
  none_before source t i (next_start source t.to) ts end (same_spot (spot_of t) (place source i) reads.0.line reads.0.column)
      (omega (arith, reads.0.to)) reads.1,
  sorted source (next_start source t.to) ts end reads.1,
)

-- A place does not stand before itself.
not_itself : (a : Spot) → stands_before a a ≡ false
not_itself a = not_before a a (omega arith, λ le. omega arith)

-- So the first mark at such tokens does not stand before the place.
first_later : (rest us : List Lexeme) (spot : Spot) (n : Mark) (ms : List Mark) → NoneBefore spot us → Marked rest (n ∷ ms) us
    → stands_before (mark_spot n) spot ≡ false
first_later rest us spot n ms before (skips t _ ts marked) = first_later rest ts spot n ms before.1 marked
first_later rest us spot n ms before (stands t _ _ ts at marked) =
    ap (λ (a : Spot). stands_before a spot) (sym (same_spot (spot_of t) (mark_spot n) at.0 at.1)) ∙ before.0

in_order : (rest ts : List Lexeme) (ms : List Mark) → AreSorted ts → Marked rest ms ts → InOrder ms
in_order rest ts [] order marked = tt
in_order rest ts (m ∷ ms) order (skips t _ us marked) = in_order rest us (m ∷ ms) order.1 marked
in_order rest ts (m ∷ ms) order (stands t _ _ us at marked) = (first ms marked, in_order rest (t ∷ us) ms order marked)
  where
    here : spot_of t ≡ mark_spot m
    here = same_spot (spot_of t) (mark_spot m) at.0 at.1

    first : (ns : List Mark) → Marked rest ns (t ∷ us) → IsFirst m ns
    first [] others = tt
    first (n ∷ ns) others =
        ap (stands_before (mark_spot n)) (sym here) ∙ first_later rest (t ∷ us) (spot_of t) n ns (not_itself (spot_of t), order.0) others

pub trees_are_in_order : TreesAreInOrder
trees_are_in_order source tokens tree spelled written =
    in_order [] tokens (unit_marks tree) (sorted source (next_start source 0) tokens _ spelled.reads) (unit_marked tree tokens [] written)
