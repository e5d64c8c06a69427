-- What reading tells where nesting is too deep: every unit that goes on is so there.
use Rattle.std.proofs.Common.{◌≡◌, suc, ◌+◌, ◌<◌, true, List, [], ◌∷◌, ◌++◌, length, Some, Err, ◌⊎◌, inl, inr, refl, sym, ap, subst, ◌∙◌, append_assoc, arith}
use Rattle.ada_text.specs.declared.spot.Spot.{Spot}
use Rattle.ada_text.specs.declared.word.Word.TheVariants.{New}
use Rattle.ada_text.specs.Token.{Kind, reserved, Lexeme}
use Rattle.ada_tree.specs.Piece.{Piece, deep, Spelled}
use Rattle.ada_tree.specs.Statements.{UnitTree, unit_pieces, deepest}
use Rattle.ada_reader.specs.Step.{too_deep, spot_of, at}
use Rattle.ada_phrases.specs.Units.{whole_at}
use Rattle.ada_parser.specs.FirstFault.{MayFollow, GoesOn, GoesPast, IsTooDeep}
use Rattle.ada_parser.proofs.Sound.{Tells, settled, unsettled, Sinks}
use Rattle.ada_parser.proofs.Follows.{spelled_append}
use Rattle.ada_parser.proofs.Complete.{sinks}
use Rattle.ada_parser.proofs.Located.{part_of, last_or_before, spelled_as, spelled_so, may_follow, spelled_behind, spelled_before, deep_sinks, Located, some_is, located}
use Rattle.ada_parser.proofs.Reading.{Parts, stopped, told, Begun, whole_stuck}

-- a unit that is too deep in the front is told there
pub past_sinks : (u : UnitTree) (front more : List Lexeme) (p : GoesPast u front) → sinks (unit_pieces deepest u) (front ++ more) ≡ Some (spot_of p.token)
past_sinks u front more p =
    let text : front ++ more ≡ p.before ++ p.token ∷ (p.after ++ more) = ap (λ (us : List Lexeme). us ++ more) p.stands ∙ append_assoc p.before (p.token ∷ p.after) more in
    ap (λ (us : List Lexeme). sinks (unit_pieces deepest u) us) text ∙
    (ap (λ (ps : List Piece). sinks ps (p.before ++ p.token ∷ (p.after ++ more))) p.whole ∙
    deep_sinks p.shallow p.behind p.kind p.before p.token (p.after ++ more) p.written)

-- the token at another spot, past both of these
abbrev moved : Spot → Spot → Lexeme → Lexeme
moved x y t = record { kind = t.kind; line = suc (x.line + y.line); column = t.column; from = t.from; to = t.to }

moved_off : (x y : Spot) (t : Lexeme) → (Some (spot_of (moved x y t)) ≡ Some x) ⊎ (Some (spot_of (moved x y t)) ≡ Some y) → ⊥
moved_off x y t (inl e) = let h : suc (x.line + y.line) ≡ x.line = ap (λ (s : Spot). s.line) (some_is (spot_of (moved x y t)) x e) in omega (arith, h)
moved_off x y t (inr e) = let h : suc (x.line + y.line) ≡ y.line = ap (λ (s : Spot). s.line) (some_is (spot_of (moved x y t)) y e) in omega (arith, h)

moved_follows : (left rest after : List Lexeme) (t u : Lexeme) → u.kind ≡ t.kind → MayFollow left (rest ++ t ∷ after) → MayFollow left (rest ++ u ∷ after)
moved_follows left [] after t u e f = subst (λ (k : Kind). at (reserved New) (record { kind = k; line = u.line; column = u.column; from = u.from; to = u.to } ∷ after) ≡ true → at (reserved New) left ≡ true) (sym e) f
moved_follows left (y ∷ rest) after t u e f = f

-- Whatever may follow, reading tells one of two spots.
abbrev TellsEither : List Lexeme → List Lexeme → Spot → Spot → Type 0
TellsEither front left spot other = (more : List Lexeme) → MayFollow left more → (whole_at (front ++ more) ≡ stopped (too_deep spot)) ⊎ (whole_at (front ++ more) ≡ stopped (too_deep other))

either_sinks : Parts → (front left : List Lexeme) (spot other : Spot) → TellsEither front left spot other → (u : UnitTree) (more : List Lexeme) → MayFollow left more → Spelled (unit_pieces deepest u) (front ++ more) [] → (sinks (unit_pieces deepest u) (front ++ more) ≡ Some spot) ⊎ (sinks (unit_pieces deepest u) (front ++ more) ≡ Some other)
either_sinks parts front left spot other tells u more f text =
    elim (tells more f) [
      | inl e ↦ inl (told (sinks (unit_pieces deepest u) (front ++ more)) u [] (whole_at (front ++ more)) spot (parts.complete u (front ++ more) text) e)
      | inr e ↦ inr (told (sinks (unit_pieces deepest u) (front ++ more)) u [] (whole_at (front ++ more)) other (parts.complete u (front ++ more) text) e)
    ]

-- the token that is too deep stands in the front: behind it, at another spot, it would be told at that
not_behind : Parts → (front left : List Lexeme) (spot other its : Spot) → TellsEither front left spot other → (u : UnitTree) (more rest : List Lexeme) (l : Located (unit_pieces deepest u) (front ++ more) its) → MayFollow left more → l.before ≡ front ++ rest → more ≡ rest ++ l.token ∷ l.after → ⊥
not_behind parts front left spot other its tells u more rest l f e d =
    let t : Lexeme = moved spot other l.token in
    let text : front ++ (rest ++ t ∷ l.after) ≡ l.before ++ t ∷ l.after = sym (append_assoc front rest (t ∷ l.after)) ∙ ap (λ (us : List Lexeme). us ++ t ∷ l.after) (sym e) in
    let there : Spelled (unit_pieces deepest u) (l.before ++ t ∷ l.after) [] = subst (λ (ps : List Piece). Spelled ps (l.before ++ t ∷ l.after) []) (sym l.whole) (spelled_behind l.shallow (deep l.kind ∷ l.behind) l.before (t ∷ l.after) l.written (l.opens, l.spelled)) in
    let its_sinks : sinks (unit_pieces deepest u) (front ++ (rest ++ t ∷ l.after)) ≡ Some (spot_of t) =
    ap (λ (us : List Lexeme). sinks (unit_pieces deepest u) us) text ∙
    (ap (λ (ps : List Piece). sinks ps (l.before ++ t ∷ l.after)) l.whole ∙ deep_sinks l.shallow l.behind l.kind l.before t l.after l.written) in
    let follows : MayFollow left (rest ++ t ∷ l.after) = moved_follows left rest l.after l.token t refl (subst (λ (us : List Lexeme). MayFollow left us) d f) in
    elim (either_sinks parts front left spot other tells u (rest ++ t ∷ l.after) follows (subst (λ (us : List Lexeme). Spelled (unit_pieces deepest u) us []) (sym text) there)) [
      | inl h ↦ moved_off spot other l.token (inl (sym its_sinks ∙ h))
      | inr h ↦ moved_off spot other l.token (inr (sym its_sinks ∙ h))
    ]

past_at : Parts → (front left : List Lexeme) (spot other its : Spot) → TellsEither front left spot other → (u : UnitTree) (more : List Lexeme) → MayFollow left more → Located (unit_pieces deepest u) (front ++ more) its → (p : GoesPast u front) × (spot_of p.token ≡ its)
past_at parts front left spot other its tells u more f l =
    elim (part_of front more l.before l.token l.after l.stands) [
      | inl h ↦ (record { before = l.before; token = l.token; after = h.0; stands = h.1; shallow = l.shallow; kind = l.kind; behind = l.behind; whole = l.whole; written = l.written; opens = l.opens }, l.its_spot)
      | inr h ↦ absurd (not_behind parts front left spot other its tells u more h.0 l f h.1 h.2)
    ]

-- A unit that goes on from the front is too deep in it, at one of the two.
past_either : Parts → (front left : List Lexeme) (spot other : Spot) → TellsEither front left spot other → (u : UnitTree) (more : List Lexeme) → MayFollow left more → Spelled (unit_pieces deepest u) (front ++ more) [] → (p : GoesPast u front) × ((spot_of p.token ≡ spot) ⊎ (spot_of p.token ≡ other))
past_either parts front left spot other tells u more f text =
    elim (either_sinks parts front left spot other tells u more f text) [
      | inl h ↦ let p = past_at parts front left spot other spot tells u more f (located (unit_pieces deepest u) (front ++ more) spot text h) in (p.0, inl p.1)
      | inr h ↦ let p = past_at parts front left spot other other tells u more f (located (unit_pieces deepest u) (front ++ more) other text h) in (p.0, inr p.1)
    ]

-- At the spot, or before these tokens.
abbrev pub NoLater : UnitTree → List Lexeme → Spot → List Lexeme → Type 0
NoLater u front spot before = (p : GoesPast u front) × ((spot_of p.token ≡ spot) ⊎ (length p.before < length before))

-- where the tokens shown settle it
settled_past : Parts → (before : List Lexeme) (token : Lexeme) (shown left : List Lexeme) (spot : Spot) → ((more : List Lexeme) → MayFollow left more → whole_at (before ++ token ∷ (shown ++ more)) ≡ Err (too_deep spot)) → (u : UnitTree) (more : List Lexeme) → MayFollow left more → Spelled (unit_pieces deepest u) ((before ++ token ∷ shown) ++ more) [] → NoLater u (before ++ token ∷ shown) spot before
settled_past parts before token shown left spot h u more f text =
    let p = past_either parts (before ++ token ∷ shown) left spot spot (λ us g. inl (ap whole_at (append_assoc before (token ∷ shown) us) ∙ h us g)) u more f text in
    elim p.1 [
      | inl e ↦ (p.0, inl e)
      | inr e ↦ (p.0, inl e)
    ]

-- what is too deep up to the token is so no later
up_to : (u : UnitTree) (before : List Lexeme) (token : Lexeme) (shown : List Lexeme) (spot : Spot) → spot_of token ≡ spot → GoesPast u (before ++ token ∷ []) → NoLater u (before ++ token ∷ shown) spot before
up_to u before token shown spot stands p =
    let text : before ++ token ∷ shown ≡ p.before ++ p.token ∷ (p.after ++ shown) =
    sym (append_assoc before (token ∷ []) shown) ∙ (ap (λ (us : List Lexeme). us ++ shown) p.stands ∙ append_assoc p.before (p.token ∷ p.after) shown) in
    let q : GoesPast u (before ++ token ∷ shown) = record { before = p.before; token = p.token; after = p.after ++ shown; stands = text; shallow = p.shallow; kind = p.kind; behind = p.behind; whole = p.whole; written = p.written; opens = p.opens } in
    elim (last_or_before before token p.before p.token p.after p.stands) [
      | inl e ↦ (q, inl (ap spot_of e ∙ stands))
      | inr e ↦ (q, inr e)
    ]

-- where they don't
unsettled_past : Parts → (before : List Lexeme) (token : Lexeme) (shown : List Lexeme) (spot other : Spot) → spot_of token ≡ spot → ((more : List Lexeme) → (whole_at (before ++ token ∷ more) ≡ Err (too_deep spot)) ⊎ (whole_at (before ++ token ∷ more) ≡ Err (too_deep other))) → (u : UnitTree) (more : List Lexeme) → Spelled (unit_pieces deepest u) ((before ++ token ∷ shown) ++ more) [] → NoLater u (before ++ token ∷ shown) spot before
unsettled_past parts before token shown spot other stands h u more text =
    let short : List Lexeme = before ++ token ∷ [] in
    let tells : TellsEither short (shown ++ more) spot other = λ us g.
    subst (λ (vs : List Lexeme). (whole_at vs ≡ stopped (too_deep spot)) ⊎ (whole_at vs ≡ stopped (too_deep other))) (sym (append_assoc before (token ∷ []) us)) (h us) in
    let there : Spelled (unit_pieces deepest u) (short ++ (shown ++ more)) [] =
    subst (λ (us : List Lexeme). Spelled (unit_pieces deepest u) us []) (append_assoc before (token ∷ shown) more ∙ sym (append_assoc before (token ∷ []) (shown ++ more))) text in
    up_to u before token shown spot stands (past_either parts short (shown ++ more) spot other tells u (shown ++ more) (λ g. g) there).0

-- each unit that goes on from the front is too deep in it, no later than at the token
none_later : Parts → (before : List Lexeme) (token : Lexeme) (shown left : List Lexeme) (spot : Spot) → spot_of token ≡ spot → Tells whole_at before token shown left spot → (g : GoesOn (before ++ token ∷ shown) left) → NoLater g.unit (before ++ token ∷ shown) spot before
none_later parts before token shown left spot stands (settled h) g = settled_past parts before token shown left spot h g.unit g.more g.follows g.text
none_later parts before token shown left spot stands (unsettled other h n) g = unsettled_past parts before token shown spot other stands h g.unit g.more g.text

-- with the next token, reading tells the spot
with_next : (before : List Lexeme) (token : Lexeme) (shown left : List Lexeme) (spot : Spot) → Tells whole_at before token shown left spot → (t : Lexeme) (rest more : List Lexeme) → left ≡ t ∷ rest → whole_at (before ++ token ∷ (shown ++ t ∷ more)) ≡ Err (too_deep spot)
with_next before token shown left spot (settled h) t rest more e = h (t ∷ more) (λ g. ap (at (reserved New)) e ∙ g)
with_next before token shown left spot (unsettled other h n) t rest more e = n t more rest e

pub follows_front : (d left more : List Lexeme) → MayFollow left more → MayFollow (d ++ left) (d ++ more)
follows_front [] left more f = f
follows_front (t ∷ d) left more f = λ g. g

-- a unit that goes on from a front goes on from each part of it
abbrev pub narrower : (front d left : List Lexeme) → GoesOn (front ++ d) left → GoesOn front (d ++ left)
narrower front d left g = record {
  unit = g.unit;
  more = d ++ g.more;
  follows = follows_front d left g.more g.follows;
  text = subst (λ (us : List Lexeme). Spelled (unit_pieces deepest g.unit) us []) (append_assoc front d g.more) g.text;
}

next_past : Parts → (before : List Lexeme) (token : Lexeme) (shown left : List Lexeme) (spot : Spot) → spot_of token ≡ spot → Tells whole_at before token shown left spot → (t : Lexeme) (rest : List Lexeme) → left ≡ t ∷ rest → (g : GoesOn ((before ++ token ∷ shown) ++ t ∷ []) rest) → (p : GoesPast g.unit (before ++ token ∷ shown)) × (spot_of p.token ≡ spot)
next_past parts before token shown left spot stands tells t rest e g =
    let front : List Lexeme = before ++ token ∷ shown in
    let n : GoesOn front (t ∷ rest) = narrower front (t ∷ []) rest g in
    let tells_so : Tells whole_at before token shown (t ∷ rest) spot = subst (λ (us : List Lexeme). Tells whole_at before token shown us spot) e tells in
    let p = none_later parts before token shown (t ∷ rest) spot stands tells_so n in
    let read : whole_at (front ++ t ∷ g.more) ≡ Err (too_deep spot) = ap whole_at (append_assoc before (token ∷ shown) (t ∷ g.more)) ∙ with_next before token shown (t ∷ rest) spot tells_so t rest g.more refl in
    (p.0, some_is (spot_of p.0.token) spot (sym (past_sinks g.unit front (t ∷ g.more) p.0) ∙ told (sinks (unit_pieces deepest g.unit) (front ++ t ∷ g.more)) g.unit [] (whole_at (front ++ t ∷ g.more)) spot (parts.complete g.unit (front ++ t ∷ g.more) n.text) read))

deep_parts : (pieces begun shallow behind more : List Piece) (p : Piece) → pieces ≡ begun ++ more → begun ≡ shallow ++ (p ∷ behind) → pieces ≡ shallow ++ (p ∷ (behind ++ more))
deep_parts pieces begun shallow behind more p e f = e ∙ (ap (λ (ps : List Piece). ps ++ more) f ∙ append_assoc shallow (p ∷ behind) more)

-- A unit goes on from the front, in which this token opens a level too many.
record Past (front left : List Lexeme) (before : List Lexeme) (token : Lexeme) : Type 0 where
  begins : GoesOn front left
  past : GoesPast begins.unit front
  same : past.before ≡ before
  its : past.token ≡ token

past_of : (ts : List Lexeme) (spot : Spot) (b : Begun ts (too_deep spot)) → (let d : Sinks whole_at b.begun ts spot = b.reached in Past (d.before ++ d.token ∷ d.shown) d.left d.before d.token)
past_of ts spot b =
    let d : Sinks whole_at b.begun ts spot = b.reached in
    let front : List Lexeme = d.before ++ d.token ∷ d.shown in
    let more : List Lexeme = spelled_as b.more in
    let whole : unit_pieces deepest b.tree ≡ d.shallow ++ (deep d.kind ∷ (d.behind ++ b.more)) = deep_parts (unit_pieces deepest b.tree) b.begun d.shallow d.behind b.more (deep d.kind) b.whole d.whole in
    let behind : Spelled (d.behind ++ b.more) (d.shown ++ more) [] = spelled_append d.behind b.more (d.shown ++ more) more [] (spelled_before d.behind d.shown more d.spelled) (spelled_so b.more b.ready.0) in
    let text : Spelled (unit_pieces deepest b.tree) (d.before ++ d.token ∷ (d.shown ++ more)) [] =
    subst (λ (ps : List Piece). Spelled ps (d.before ++ d.token ∷ (d.shown ++ more)) []) (sym whole)
    (spelled_behind d.shallow (deep d.kind ∷ (d.behind ++ b.more)) d.before (d.token ∷ (d.shown ++ more)) d.written (d.is_so, behind)) in
    record {
      begins = record { unit = b.tree; more = more; follows = may_follow d.left b.more b.ready; text = subst (λ (us : List Lexeme). Spelled (unit_pieces deepest b.tree) us []) (sym (append_assoc d.before (d.token ∷ d.shown) more)) text };
      past = record { before = d.before; token = d.token; after = d.shown; stands = refl; shallow = d.shallow; kind = d.kind; behind = d.behind ++ b.more; whole = whole; written = d.written; opens = d.is_so };
      same = refl;
      its = refl;
    }

pub at_depth : Parts → (ts : List Lexeme) (spot : Spot) → whole_at ts ≡ Err (too_deep spot) → IsTooDeep ts spot
at_depth parts ts spot e =
    let b : Begun ts (too_deep spot) = whole_stuck parts ts (too_deep spot) e in
    let d : Sinks whole_at b.begun ts spot = b.reached in
    let front : List Lexeme = d.before ++ d.token ∷ d.shown in
    let p : Past front d.left d.before d.token = past_of ts spot b in
    record {
      front = front;
      left = d.left;
      stands = d.split ∙ sym (append_assoc d.before (d.token ∷ d.shown) d.left);
      begins = p.begins;
      past = p.past;
      its_spot = sym (ap spot_of p.its ∙ d.stands);
      others = λ g. subst (λ (us : List Lexeme). NoLater g.unit front spot us) (sym p.same) (none_later parts d.before d.token d.shown d.left spot d.stands d.tells g);
      next = next_past parts d.before d.token d.shown d.left spot d.stands d.tells;
    }
