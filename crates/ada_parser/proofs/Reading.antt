-- What reading a whole text tells: its tree, or the token where it stops.
use Rattle.std.proofs.Common.{◌≡◌, List, [], ◌∷◌, ◌++◌, Option, Some, None, Ok, Err, inl, inr, refl, sym, ap, subst, ◌∙◌, append_assoc, append-nil}
use Rattle.ada_text.specs.declared.spot.Spot.{Spot}
use Rattle.ada_text.specs.Token.{Lexeme}
use Rattle.ada_tree.specs.Piece.{Piece, Written, Spelled}
use Rattle.ada_tree.specs.Statements.{UnitTree, IsTextOf, unit_pieces, deepest}
use Rattle.ada_reader.specs.Step.{Outcome, Stopped, here, too_deep, spot_of}
use Rattle.ada_phrases.specs.Units.{unit_at, ended, whole_at}
use Rattle.ada_parser.specs.FirstFault.{GoesOn, StaysWithin, BeginsAside, IsUnexpected, EndsEarly}
use Rattle.ada_parser.specs.Faults.{end_spot}
use Rattle.ada_parser.proofs.Local.{Plain}
use Rattle.ada_parser.proofs.Sound.{bind_ok, bind_err, ok_is, err_is, reached_first, carries_first, Stuck, Sound, written_used, written_spelled, stops_there}
use Rattle.ada_parser.proofs.Complete.{sinks, expected}
use Rattle.ada_parser.proofs.Located.{spelled_as, spelled_so, may_follow, spelled_behind, shallow_sinks}

-- What the phrases give: what is read is written so, what is written so is read so, and no token behind counts.
pub record Parts : Type 0 where
  pub sound : Sound (unit_pieces deepest) (unit_at deepest)
  pub plain : Plain whole_at
  pub complete : (u : UnitTree) (ts : List Lexeme) → Spelled (unit_pieces deepest u) ts [] → whole_at ts ≡ expected (sinks (unit_pieces deepest u) ts) u []

-- ---- the tree

nothing_left : (k j : UnitTree) (ts rest : List Lexeme) → ended k ts ≡ Ok (j, rest) → (ts ≡ []) × (k ≡ j)
nothing_left k j [] rest e = (refl, ap (λ (z : UnitTree × List Lexeme). z.0) (ok_is (k, []) (j, rest) e))
nothing_left k j (t ∷ ts) rest e = absurd cc

pub whole_takes : Parts → (ts : List Lexeme) (u : UnitTree) (rest : List Lexeme) → whole_at ts ≡ Ok (u, rest) → IsTextOf ts u
unfolding whole_at
whole_takes parts ts u rest e =
    let a = bind_ok (unit_at deepest ts) (λ x. ended x.0 x.1) (u, rest) e in
    let b = nothing_left a.0.0 u a.0.1 rest a.2 in
    subst (λ v. IsTextOf ts v) b.1 (subst (Written (unit_pieces deepest a.0.0) ts) b.0 (parts.sound.takes ts a.0.0 a.0.1 a.1))

tree_read : Parts → (ts : List Lexeme) (u : UnitTree) → IsTextOf ts u → whole_at ts ≡ Ok (u, [])
tree_read parts ts u w = parts.complete u ts (written_spelled (unit_pieces deepest u) ts [] w) ∙ ap (λ o. expected o u []) (shallow_sinks (unit_pieces deepest u) ts [] w)

pub one_tree : Parts → (ts : List Lexeme) (t u : UnitTree) → IsTextOf ts t → IsTextOf ts u → t ≡ u
one_tree parts ts t u g h = ap (λ (x : UnitTree × List Lexeme). x.0) (ok_is (t, []) (u, []) (sym (tree_read parts ts t g) ∙ tree_read parts ts u h))

-- ---- where reading stops

abbrev pub stopped : Stopped → Outcome UnitTree
stopped s = Err s

deep_is : (x y : Spot) → too_deep x ≡ too_deep y → x ≡ y
deep_is x y e = cc

not_here : (o : Option Spot) (u : UnitTree) (rest left : List Lexeme) (r : Outcome UnitTree) → r ≡ expected o u rest → r ≡ stopped (here left) → ⊥
not_here None u rest left r e f = cc
not_here (Some spot) u rest left r e f = let g : too_deep spot ≡ here left = err_is {A = UnitTree × List Lexeme} (too_deep spot) (here left) (sym e ∙ f) in (let c : ⊥ = cc in c)

-- what reading tells is where the unit is too deep
pub told : (o : Option Spot) (u : UnitTree) (rest : List Lexeme) (r : Outcome UnitTree) (spot : Spot) → r ≡ expected o u rest → r ≡ stopped (too_deep spot) → o ≡ Some spot
told None u rest r spot e f = absurd (let c : ⊥ = (let q = sym e ∙ f in cc) in c)
told (Some other) u rest r spot e f = ap Some (deep_is other spot (err_is {A = UnitTree × List Lexeme} (too_deep other) (too_deep spot) (sym e ∙ f)))

something_left : (k : UnitTree) (ts : List Lexeme) (s : Stopped) → ended k ts ≡ stopped s → here ts ≡ s
something_left k [] s e = absurd cc
something_left k (t ∷ ts) s e = err_is {A = UnitTree × List Lexeme} (here (t ∷ ts)) s e

-- A unit begins with what was read.
abbrev pub Begun : List Lexeme → Stopped → Type 0
Begun ts s = Stuck whole_at [] (unit_pieces deepest) ts s

pub whole_stuck : Parts → (ts : List Lexeme) (s : Stopped) → whole_at ts ≡ Err s → Begun ts s
unfolding whole_at
whole_stuck parts ts s e =
    elim (bind_err (unit_at deepest ts) (λ x. ended x.0 x.1) s e) [
      | inl d ↦
          let k : Stuck (unit_at deepest) [] (unit_pieces deepest) ts s = parts.sound.fails ts s d in
          record { tree = k.tree; begun = k.begun; more = k.more; whole = k.whole; reached = reached_first (unit_at deepest) whole_at k.begun ts s (carries_first (unit_at deepest) ended ts) k.reached; ready = k.ready }
      | inr d ↦
          let w : Written (unit_pieces deepest d.0.0) ts d.0.1 = parts.sound.takes ts d.0.0 d.0.1 d.1 in
          subst (Begun ts) (something_left d.0.0 d.0.1 s d.2) (record { tree = d.0.0; begun = unit_pieces deepest d.0.0; more = []; whole = sym (append-nil (unit_pieces deepest d.0.0)); reached = w; ready = (tt, refl) })
    ]

-- A unit goes on from the front, in which it opens no level too many.
abbrev pub Within : List Lexeme → List Lexeme → Type 0
Within front left = (g : GoesOn front left) × StaysWithin g.unit front

-- What was read before the tokens that are left begins a unit.
record Used (ts left : List Lexeme) : Type 0 where
  used : List Lexeme
  split : ts ≡ used ++ left
  begins : Within used left

used_of : (ts left : List Lexeme) → Begun ts (here left) → Used ts left
used_of ts left b =
    let s = written_used b.begun ts left b.reached in
    record {
      used = s.0;
      split = s.1;
      begins = (
        record {
          unit = b.tree;
          more = spelled_as b.more;
          follows = may_follow left b.more b.ready;
          text = subst (λ (ps : List Piece). Spelled ps (s.0 ++ spelled_as b.more) []) (sym b.whole) (spelled_behind b.begun b.more s.0 (spelled_as b.more) s.2 (spelled_so b.more b.ready.0));
        },
        record { shallow = b.begun; behind = b.more; whole = b.whole; written = s.2 },
      );
    }

-- where reading stops at a token, no unit goes on with it
no_further : Parts → (used : List Lexeme) (t : Lexeme) (after : List Lexeme) → whole_at (used ++ t ∷ after) ≡ Err (here (t ∷ after)) → BeginsAside (used ++ t ∷ []) → ⊥
no_further parts used t after e h =
    let text : Spelled (unit_pieces deepest h.0) (used ++ t ∷ h.1) [] = subst (λ (us : List Lexeme). Spelled (unit_pieces deepest h.0) us []) (append_assoc used (t ∷ []) h.1) h.2 in
    not_here (sinks (unit_pieces deepest h.0) (used ++ t ∷ h.1)) h.0 [] (t ∷ h.1) (whole_at (used ++ t ∷ h.1)) (parts.complete h.0 (used ++ t ∷ h.1) text) (stops_there whole_at parts.plain used t after e h.1)

pub at_token : Parts → (ts : List Lexeme) (t : Lexeme) (after : List Lexeme) (spot : Spot) → whole_at ts ≡ Err (here (t ∷ after)) → spot ≡ spot_of t → IsUnexpected ts spot
at_token parts ts t after spot e s =
    let b : Used ts (t ∷ after) = used_of ts (t ∷ after) (whole_stuck parts ts (here (t ∷ after)) e) in
    record {
      before = b.used;
      token = t;
      after = after;
      stands = b.split;
      its_spot = s;
      begins = b.begins.0;
      within = b.begins.1;
      goes_no_further = no_further parts b.used t after (subst (λ (us : List Lexeme). whole_at us ≡ Err (here (t ∷ after))) b.split e);
    }

pub at_end : Parts → (ts : List Lexeme) (spot : Spot) → whole_at ts ≡ Err (here []) → spot ≡ end_spot ts → EndsEarly ts spot
at_end parts ts spot e s =
    let b : Used ts [] = used_of ts [] (whole_stuck parts ts (here []) e) in
    let w : Within ts [] = subst (λ (us : List Lexeme). Within us []) (sym (b.split ∙ append-nil b.used)) b.begins in
    record {
      its_spot = s;
      begins = w.0;
      within = w.1;
      has_none = λ u w. not_here (sinks (unit_pieces deepest u) ts) u [] [] (whole_at ts) (parts.complete u ts w) e;
    }
