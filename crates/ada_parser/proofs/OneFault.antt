-- The laws of faults: one first fault at most, and no tree beside it.
use Rattle.std.proofs.Common.{◌≡◌, ◌≢◌, ℕ, suc, ◌<◌, List, [], ◌∷◌, ◌++◌, length, Some, ◌⊎◌, inl, inr, refl, sym, ap, subst, ◌∙◌, append_assoc, append-nil, arith}
use Rattle.ada_text.specs.declared.spot.Spot.{Spot}
use Rattle.ada_text.specs.Token.{Kind, Lexeme}
use Rattle.ada_tree.specs.Piece.{Piece, deep, IsPiece, Written, Spelled}
use Rattle.ada_tree.specs.Statements.{UnitTree, IsTextOf, unit_pieces, deepest}
use Rattle.ada_parser.specs.declared.fault.SyntaxFault.{SyntaxFault}
use Rattle.ada_parser.specs.declared.fault.SyntaxFault.TheVariants.{UnexpectedToken, TooDeep, EndOfSource, NoMemory}
use Rattle.ada_reader.specs.Step.{spot_of}
use Rattle.ada_parser.specs.FirstFault.{GoesOn, StaysWithin, GoesPast, BeginsAside, IsUnexpected, EndsEarly, IsTooDeep, IsFirstFault}
use Rattle.ada_parser.proofs.Sound.{written_spelled}
use Rattle.ada_parser.proofs.Complete.{sinks}
use Rattle.ada_parser.proofs.Located.{heads, tails, no_list, fronts, some_is}
use Rattle.ada_parser.proofs.Reading.{Within}
use Rattle.ada_parser.proofs.Depth.{past_sinks, NoLater, narrower}

-- ---- one first fault

-- a unit that goes on from a front with a token goes on with it
aside : (front : List Lexeme) (t : Lexeme) (d left : List Lexeme) → GoesOn (front ++ t ∷ d) left → BeginsAside (front ++ t ∷ [])
aside front t d left g = (g.unit, d ++ g.more, subst (λ (us : List Lexeme). Spelled (unit_pieces deepest g.unit) us []) (append_assoc front (t ∷ d) g.more ∙ sym (append_assoc front (t ∷ []) (d ++ g.more))) g.text)

deep_within : (ps behind qs rest : List Piece) (k : Kind) (before : List Lexeme) (t : Lexeme) (after : List Lexeme) → ps ++ (deep k ∷ behind) ≡ qs ++ rest → Written ps before [] → Written qs (before ++ t ∷ after) [] → ⊥
deep_within [] behind [] rest k before t after e w v = no_list before after t (sym v)
deep_within [] behind (q ∷ qs) rest k before t after e w v =
    let there : Written (q ∷ qs) (t ∷ after) [] = subst (λ (us : List Lexeme). Written (q ∷ qs) (us ++ t ∷ after) []) w v in
    subst (IsPiece t) (sym (heads (deep k) q behind (qs ++ rest) e)) there.0
deep_within (p ∷ ps) behind qs rest k [] t after e w v = w
deep_within (p ∷ ps) behind [] rest k (y ∷ before) t after e w v = no_list (y ∷ before) after t (sym v)
deep_within (p ∷ ps) behind (q ∷ qs) rest k (y ∷ before) t after e w v = deep_within ps behind qs rest k before t after (tails p q (ps ++ (deep k ∷ behind)) (qs ++ rest) e) w.1 v.1

-- a unit that is too deep in a front is so in all that begins with it
not_within : (u : UnitTree) (front d : List Lexeme) → GoesPast u front → StaysWithin u (front ++ d) → ⊥
not_within u front d p s =
    let text : front ++ d ≡ p.before ++ p.token ∷ (p.after ++ d) = ap (λ (us : List Lexeme). us ++ d) p.stands ∙ append_assoc p.before (p.token ∷ p.after) d in
    deep_within p.shallow p.behind s.shallow s.behind p.kind p.before p.token (p.after ++ d) (sym p.whole ∙ s.whole) p.written (subst (λ (us : List Lexeme). Written s.shallow us []) text s.written)

depth_same : (ps behind qs rest : List Piece) (k l : Kind) (before others : List Lexeme) → ps ++ (deep k ∷ behind) ≡ qs ++ (deep l ∷ rest) → Written ps before [] → Written qs others [] → length before ≡ length others
depth_same [] behind [] rest k l before others e w v = ap (λ (us : List Lexeme). length us) (w ∙ sym v)
depth_same [] behind (q ∷ qs) rest k l before [] e w v = absurd v
depth_same [] behind (q ∷ qs) rest k l before (y ∷ others) e w v = absurd (subst (IsPiece y) (sym (heads (deep k) q behind (qs ++ (deep l ∷ rest)) e)) v.0)
depth_same (p ∷ ps) behind qs rest k l [] others e w v = absurd w
depth_same (p ∷ ps) behind [] rest k l (x ∷ before) others e w v = absurd (subst (IsPiece x) (heads p (deep l) (ps ++ (deep k ∷ behind)) rest e) w.0)
depth_same (p ∷ ps) behind (q ∷ qs) rest k l (x ∷ before) [] e w v = absurd v
depth_same (p ∷ ps) behind (q ∷ qs) rest k l (x ∷ before) (y ∷ others) e w v = ap (λ (n : ℕ). suc n) (depth_same ps behind qs rest k l before others (tails p q (ps ++ (deep k ∷ behind)) (qs ++ (deep l ∷ rest)) e) w.1 v.1)

same_depth : (u : UnitTree) (f g : List Lexeme) (p : GoesPast u f) (q : GoesPast u g) → length p.before ≡ length q.before
same_depth u f g p q = depth_same p.shallow p.behind q.shallow q.behind p.kind q.kind p.before q.before (sym p.whole ∙ q.whole) p.written q.written

-- a unit is too deep at one spot first
same_spot : (u : UnitTree) (front d : List Lexeme) (p : GoesPast u front) (q : GoesPast u (front ++ d)) → spot_of p.token ≡ spot_of q.token
same_spot u front d p q =
    some_is (spot_of p.token) (spot_of q.token)
    (sym (past_sinks u front (d ++ []) p) ∙ (ap (λ (us : List Lexeme). sinks (unit_pieces deepest u) us) (sym (append_assoc front d [])) ∙ past_sinks u (front ++ d) [] q))

-- tokens at which none goes on, of which the second stands no later
unexpected_before : (ts : List Lexeme) (x y : Spot) (f : IsUnexpected ts x) (g : IsUnexpected ts y) → (d : List Lexeme) → g.before ≡ f.before ++ d → f.token ∷ f.after ≡ d ++ g.token ∷ g.after → x ≡ y
unexpected_before ts x y f g [] e h = f.its_spot ∙ (ap spot_of (heads f.token g.token f.after g.after h) ∙ sym g.its_spot)
unexpected_before ts x y f g (t ∷ d) e h =
    let same : t ≡ f.token = sym (heads f.token t f.after (d ++ g.token ∷ g.after) h) in
    let b : GoesOn (f.before ++ f.token ∷ d) (g.token ∷ g.after) = subst (λ (us : List Lexeme). GoesOn us (g.token ∷ g.after)) (e ∙ ap (λ (z : Lexeme). f.before ++ z ∷ d) same) g.begins in
    absurd (f.goes_no_further (aside f.before f.token d (g.token ∷ g.after) b))

one_unexpected : (ts : List Lexeme) (x y : Spot) → IsUnexpected ts x → IsUnexpected ts y → x ≡ y
one_unexpected ts x y f g =
    elim (fronts f.before (f.token ∷ f.after) g.before (g.token ∷ g.after) (sym f.stands ∙ g.stands)) [
      | inl h ↦ unexpected_before ts x y f g h.0 h.1 h.2
      | inr h ↦ sym (unexpected_before ts y x g f h.0 h.1 h.2)
    ]

-- a unit that stays within a front of the tokens excludes that one is too deep in a shorter one
not_deep : (ts : List Lexeme) (y : Spot) (g : IsTooDeep ts y) (front d left : List Lexeme) → front ≡ g.front ++ d → g.left ≡ d ++ left → Within front left → ⊥
not_deep ts y g front d left e h w =
    let v : Within (g.front ++ d) left = subst (λ (us : List Lexeme). Within us left) e w in
    let n : GoesOn g.front (d ++ left) = narrower g.front d left v.0 in
    let others : (u : GoesOn g.front (d ++ left)) → GoesPast u.unit g.front = subst (λ (us : List Lexeme). (u : GoesOn g.front us) → GoesPast u.unit g.front) h (λ u. (g.others u).0) in
    not_within v.0.unit g.front d (others n) v.1

deep_behind : (ts : List Lexeme) (x y : Spot) (f : IsUnexpected ts x) (g : IsTooDeep ts y) (d : List Lexeme) → g.front ≡ f.before ++ d → f.token ∷ f.after ≡ d ++ g.left → ⊥
deep_behind ts x y f g [] e h = not_deep ts y g f.before [] (f.token ∷ f.after) (sym (append-nil f.before) ∙ (sym e ∙ sym (append-nil g.front))) (sym h) (f.begins, f.within)
deep_behind ts x y f g (t ∷ d) e h =
    let same : t ≡ f.token = sym (heads f.token t f.after (d ++ g.left) h) in
    let b : GoesOn (f.before ++ f.token ∷ d) g.left = subst (λ (us : List Lexeme). GoesOn us g.left) (e ∙ ap (λ (z : Lexeme). f.before ++ z ∷ d) same) g.begins in
    f.goes_no_further (aside f.before f.token d g.left b)

unexpected_or_deep : (ts : List Lexeme) (x y : Spot) → IsUnexpected ts x → IsTooDeep ts y → ⊥
unexpected_or_deep ts x y f g =
    elim (fronts f.before (f.token ∷ f.after) g.front g.left (sym f.stands ∙ g.stands)) [
      | inl h ↦ deep_behind ts x y f g h.0 h.1 h.2
      | inr h ↦ not_deep ts y g f.before h.0 (f.token ∷ f.after) h.1 h.2 (f.begins, f.within)
    ]

end_or_unexpected : (ts : List Lexeme) (x y : Spot) → EndsEarly ts x → IsUnexpected ts y → ⊥
end_or_unexpected ts x y f g = g.goes_no_further (aside g.before g.token g.after [] (subst (λ (us : List Lexeme). GoesOn us []) g.stands f.begins))

end_or_deep : (ts : List Lexeme) (x y : Spot) → EndsEarly ts x → IsTooDeep ts y → ⊥
end_or_deep ts x y f g = not_deep ts y g ts g.left [] g.stands (sym (append-nil g.left)) (f.begins, f.within)

-- the same front, of other parts
abbrev wider : (front : List Lexeme) (t : Lexeme) (d left : List Lexeme) → GoesOn (front ++ t ∷ d) left → GoesOn ((front ++ t ∷ []) ++ d) left
wider front t d left g = record {
  unit = g.unit;
  more = g.more;
  follows = g.follows;
  text = subst (λ (us : List Lexeme). Spelled (unit_pieces deepest g.unit) (us ++ g.more) []) (sym (append_assoc front (t ∷ []) d)) g.text;
}

-- at the spot or before it, both ways
no_sooner : (x y : Spot) (n m : ℕ) → (x ≡ y) ⊎ (n < m) → (y ≡ x) ⊎ (m < n) → x ≡ y
no_sooner x y n m (inl e) h = e
no_sooner x y n m (inr l) (inl e) = sym e
no_sooner x y n m (inr l) (inr k) = absurd (omega (arith, l, k))

-- A unit is too deep in the front at the spot, and none is later.
abbrev Deep : List Lexeme → List Lexeme → Spot → Type 0
Deep front left spot = (b : GoesOn front left) × (p : GoesPast b.unit front) × (spot ≡ spot_of p.token) × ((u : GoesOn front left) → NoLater u.unit front spot p.before)

-- what the second says of the unit of the first
said_of : (front left : List Lexeme) (x y : Spot) (d : Deep front left x) (c : Deep front left y) → (x ≡ y) ⊎ (length d.1.before < length c.1.before)
said_of front left x y d c =
    let n = c.3 d.0 in
    let spot_same : spot_of n.0.token ≡ x =
    some_is (spot_of n.0.token) x (sym (past_sinks d.0.unit front d.0.more n.0) ∙ (past_sinks d.0.unit front d.0.more d.1 ∙ ap Some (sym d.2))) in
    elim n.1 [
      | inl e ↦ inl (sym spot_same ∙ e)
      | inr e ↦ inr (subst (λ (k : ℕ). k < length c.1.before) (same_depth d.0.unit front front n.0 d.1) e)
    ]

deep_both : (front left : List Lexeme) (x y : Spot) → Deep front left x → Deep front left y → x ≡ y
deep_both front left x y d c = no_sooner x y (length d.1.before) (length c.1.before) (said_of front left x y d c) (said_of front left y x c d)

-- two that are too deep with the same front
deep_same : (ts : List Lexeme) (x y : Spot) (f : IsTooDeep ts x) (g : IsTooDeep ts y) → g.front ≡ f.front → g.left ≡ f.left → x ≡ y
deep_same ts x y f g e h = deep_both f.front f.left x y (f.begins, f.past, f.its_spot, f.others)
    (subst (λ (us : List Lexeme). Deep us f.left y) e (subst (λ (us : List Lexeme). Deep g.front us y) h (g.begins, g.past, g.its_spot, g.others)))

-- two that are too deep, the second with a longer front
deep_after : (ts : List Lexeme) (x y : Spot) (f : IsTooDeep ts x) (t : Lexeme) (d left : List Lexeme) → f.left ≡ t ∷ (d ++ left) → (b : GoesOn (f.front ++ t ∷ d) left) (p : GoesPast b.unit (f.front ++ t ∷ d)) → y ≡ spot_of p.token → x ≡ y
deep_after ts x y f t d left h b p e =
    let q = f.next t (d ++ left) h (narrower (f.front ++ t ∷ []) d left (wider f.front t d left b)) in
    sym q.1 ∙ (same_spot b.unit f.front (t ∷ d) q.0 p ∙ sym e)

deep_longer : (ts : List Lexeme) (x y : Spot) (f : IsTooDeep ts x) (g : IsTooDeep ts y) (t : Lexeme) (d : List Lexeme) → g.front ≡ f.front ++ t ∷ d → f.left ≡ t ∷ (d ++ g.left) → x ≡ y
deep_longer ts x y f g t d e h =
    let s : (b : GoesOn (f.front ++ t ∷ d) g.left) × (p : GoesPast b.unit (f.front ++ t ∷ d)) × (y ≡ spot_of p.token) =
    subst (λ (us : List Lexeme). (b : GoesOn us g.left) × (p : GoesPast b.unit us) × (y ≡ spot_of p.token)) e (g.begins, g.past, g.its_spot) in
    deep_after ts x y f t d g.left h s.0 s.1 s.2

deep_before : (ts : List Lexeme) (x y : Spot) (f : IsTooDeep ts x) (g : IsTooDeep ts y) (d : List Lexeme) → g.front ≡ f.front ++ d → f.left ≡ d ++ g.left → x ≡ y
deep_before ts x y f g [] e h = deep_same ts x y f g (e ∙ append-nil f.front) (sym h)
deep_before ts x y f g (t ∷ d) e h = deep_longer ts x y f g t d e h

one_deep : (ts : List Lexeme) (x y : Spot) → IsTooDeep ts x → IsTooDeep ts y → x ≡ y
one_deep ts x y f g =
    elim (fronts f.front f.left g.front g.left (sym f.stands ∙ g.stands)) [
      | inl h ↦ deep_before ts x y f g h.0 h.1 h.2
      | inr h ↦ sym (deep_before ts y x g f h.0 h.1 h.2)
    ]

pub one_fault : (ts : List Lexeme) (f g : SyntaxFault) → IsFirstFault ts f → IsFirstFault ts g → f ≢ NoMemory → g ≢ NoMemory → f ≡ g
one_fault ts (UnexpectedToken x) (UnexpectedToken y) f g a b = ap UnexpectedToken (one_unexpected ts x y f g)
one_fault ts (UnexpectedToken x) (TooDeep y) f g a b = absurd (unexpected_or_deep ts x y f g)
one_fault ts (UnexpectedToken x) (EndOfSource y) f g a b = absurd (end_or_unexpected ts y x g f)
one_fault ts (TooDeep x) (UnexpectedToken y) f g a b = absurd (unexpected_or_deep ts y x g f)
one_fault ts (TooDeep x) (TooDeep y) f g a b = ap TooDeep (one_deep ts x y f g)
one_fault ts (TooDeep x) (EndOfSource y) f g a b = absurd (end_or_deep ts y x g f)
one_fault ts (EndOfSource x) (UnexpectedToken y) f g a b = absurd (end_or_unexpected ts x y f g)
one_fault ts (EndOfSource x) (TooDeep y) f g a b = absurd (end_or_deep ts x y f g)
one_fault ts (EndOfSource x) (EndOfSource y) f g a b = ap EndOfSource (f.its_spot ∙ sym g.its_spot)
one_fault ts NoMemory g f h a b = absurd (a refl)
one_fault ts (UnexpectedToken x) NoMemory f h a b = absurd (b refl)
one_fault ts (TooDeep x) NoMemory f h a b = absurd (b refl)
one_fault ts (EndOfSource x) NoMemory f h a b = absurd (b refl)

-- ---- no tree beside a fault

tree_within : (ts : List Lexeme) (u : UnitTree) → IsTextOf ts u → Within ts []
tree_within ts u w = (
  record { unit = u; more = []; follows = λ h. h; text = subst (λ (us : List Lexeme). Spelled (unit_pieces deepest u) us []) (sym (append-nil ts)) (written_spelled (unit_pieces deepest u) ts [] w) },
  record { shallow = unit_pieces deepest u; behind = []; whole = sym (append-nil (unit_pieces deepest u)); written = w },
)

pub fault_without_tree : (tokens : List Lexeme) (fault : SyntaxFault) (tree : UnitTree) → IsFirstFault tokens fault → IsTextOf tokens tree → fault ≡ NoMemory
fault_without_tree ts (UnexpectedToken spot) u f w = absurd (f.goes_no_further (aside f.before f.token f.after [] (subst (λ (us : List Lexeme). GoesOn us []) f.stands (tree_within ts u w).0)))
fault_without_tree ts (EndOfSource spot) u f w = absurd (f.has_none u (written_spelled (unit_pieces deepest u) ts [] w))
fault_without_tree ts (TooDeep spot) u f w = absurd (not_deep ts spot f ts f.left [] f.stands (sym (append-nil f.left)) (tree_within ts u w))
fault_without_tree ts NoMemory u f w = refl
