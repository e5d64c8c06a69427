-- Where pieces stand among tokens, and the first of them that is nested too deep.
use Rattle.std.proofs.Common.{◌≡◌, ◌<◌, false, List, [], ◌∷◌, ◌++◌, length, Some, None, ◌⊎◌, inl, inr, refl, sym, ap, ◌∙◌, arith}
use Rattle.ada_text.specs.declared.spot.Spot.{Spot}
use Rattle.ada_text.specs.declared.word.Word.TheVariants.{New}
use Rattle.ada_text.specs.Token.{Kind, reserved, Lexeme}
use Rattle.ada_tree.specs.Piece.{Piece, anywhere, placed, deep, never, IsPiece, Written, Spelled}
use Rattle.ada_reader.specs.Step.{spot_of, at}
use Rattle.ada_parser.specs.FirstFault.{MayFollow}
use Rattle.ada_parser.proofs.Sound.{Able, begins_anew, Ready, written_before, written_spelled}
use Rattle.ada_parser.proofs.Follows.{spelled_append}
use Rattle.ada_parser.proofs.Complete.{sinks}

-- ---- lists

pub heads : {A : Type 0} (x y : A) (xs ys : List A) → x ∷ xs ≡ y ∷ ys → x ≡ y
heads x y xs ys e = cc

pub tails : {A : Type 0} (x y : A) (xs ys : List A) → x ∷ xs ≡ y ∷ ys → xs ≡ ys
tails x y xs ys e = cc

pub no_list : {A : Type 0} (ys zs : List A) (z : A) → [] ≡ ys ++ z ∷ zs → ⊥
no_list [] zs z e = cc
no_list (y ∷ ys) zs z e = cc

-- a token of a list of two parts stands in the first or in the second
pub part_of : (front more before : List Lexeme) (t : Lexeme) (after : List Lexeme) → front ++ more ≡ before ++ t ∷ after → ((rest : List Lexeme) × (front ≡ before ++ t ∷ rest)) ⊎ ((rest : List Lexeme) × (before ≡ front ++ rest) × (more ≡ rest ++ t ∷ after))
part_of [] more before t after e = inr (before, refl, e)
part_of (y ∷ front) more [] t after e = inl (front, ap (λ (z : Lexeme). z ∷ front) (heads y t (front ++ more) after e))
part_of (y ∷ front) more (b ∷ before) t after e =
    let same : y ≡ b = heads y b (front ++ more) (before ++ t ∷ after) e in
    elim (part_of front more before t after (tails y b (front ++ more) (before ++ t ∷ after) e)) [
      | inl h ↦ inl (h.0, ap (λ (z : Lexeme). z ∷ front) same ∙ ap (λ (us : List Lexeme). b ∷ us) h.1)
      | inr h ↦ inr (h.0, ap (λ (z : Lexeme). z ∷ before) (sym same) ∙ ap (λ (us : List Lexeme). y ∷ us) h.1, h.2)
    ]

-- of two fronts of a list one is a front of the other
pub fronts : (f left g rest : List Lexeme) → f ++ left ≡ g ++ rest → ((d : List Lexeme) × (g ≡ f ++ d) × (left ≡ d ++ rest)) ⊎ ((d : List Lexeme) × (f ≡ g ++ d) × (rest ≡ d ++ left))
fronts [] left g rest e = inl (g, refl, e)
fronts (x ∷ f) left [] rest e = inr (x ∷ f, refl, sym e)
fronts (x ∷ f) left (y ∷ g) rest e =
    let same : x ≡ y = heads x y (f ++ left) (g ++ rest) e in
    elim (fronts f left g rest (tails x y (f ++ left) (g ++ rest) e)) [
      | inl h ↦ inl (h.0, ap (λ (z : Lexeme). z ∷ g) (sym same) ∙ ap (λ (us : List Lexeme). x ∷ us) h.1, h.2)
      | inr h ↦ inr (h.0, ap (λ (z : Lexeme). z ∷ f) same ∙ ap (λ (us : List Lexeme). y ∷ us) h.1, h.2)
    ]

-- a token of a list is its last or stands before it
pub last_or_before : (before : List Lexeme) (token : Lexeme) (front : List Lexeme) (t : Lexeme) (rest : List Lexeme) → before ++ token ∷ [] ≡ front ++ t ∷ rest → (t ≡ token) ⊎ (length front < length before)
last_or_before [] token [] t rest e = inl (sym (heads token t [] rest e))
last_or_before [] token (y ∷ front) t rest e = absurd (no_list front rest t (tails token y [] (front ++ t ∷ rest) e))
last_or_before (x ∷ before) token [] t rest e = inr (omega arith)
last_or_before (x ∷ before) token (y ∷ front) t rest e =
    elim (last_or_before before token front t rest (tails x y (before ++ token ∷ []) (front ++ t ∷ rest) e)) [
      | inl h ↦ inl h
      | inr h ↦ inr (omega (arith, h))
    ]

-- ---- pieces and tokens

-- tokens that are spelled with these pieces
abbrev pub spelled_as : List Piece → List Lexeme
spelled_as [] = []
spelled_as (anywhere k ∷ ps) = record { kind = k; line = 1; column = 1; from = 0; to = 0 } ∷ spelled_as ps
spelled_as (deep k ∷ ps) = record { kind = k; line = 1; column = 1; from = 0; to = 0 } ∷ spelled_as ps
spelled_as (placed k spot ∷ ps) = record { kind = k; line = spot.line; column = spot.column; from = 0; to = 0 } ∷ spelled_as ps
spelled_as (never ∷ ps) = []

pub spelled_so : (ps : List Piece) → Able ps → Spelled ps (spelled_as ps) []
spelled_so [] a = refl
spelled_so (anywhere k ∷ ps) a = (refl, spelled_so ps a.1)
spelled_so (deep k ∷ ps) a = (refl, spelled_so ps a.1)
spelled_so (placed k spot ∷ ps) a = ((refl, refl, refl), spelled_so ps a.1)
spelled_so (never ∷ ps) a = absurd a.0

-- they begin with `new` only where the pieces do
not_anew : (ps : List Piece) → begins_anew ps ≡ false → at (reserved New) (spelled_as ps) ≡ false
not_anew [] e = refl
not_anew (anywhere k ∷ ps) e = e
not_anew (deep k ∷ ps) e = e
not_anew (placed k spot ∷ ps) e = e
not_anew (never ∷ ps) e = refl

pub may_follow : (left : List Lexeme) (ps : List Piece) → Ready ps → MayFollow left (spelled_as ps)
may_follow left ps ready h = absurd (let c : ⊥ = (let q = sym h ∙ not_anew ps ready.1 in cc) in c)

-- what is written so, and what is spelled so behind it
pub spelled_behind : (ps qs : List Piece) (ts us : List Lexeme) → Written ps ts [] → Spelled qs us [] → Spelled (ps ++ qs) (ts ++ us) []
spelled_behind ps qs ts us w s = spelled_append ps qs (ts ++ us) us [] (written_spelled ps (ts ++ us) us (written_before ps ts us w)) s

pub spelled_before : (ps : List Piece) (ts rest : List Lexeme) → Spelled ps ts [] → Spelled ps (ts ++ rest) rest
spelled_before [] ts rest w = ap (λ (us : List Lexeme). us ++ rest) w
spelled_before (p ∷ ps) [] rest w = absurd w
spelled_before (p ∷ ps) (t ∷ ts) rest w = (w.0, spelled_before ps ts rest w.1)

-- what is written opens no level too many
pub shallow_sinks : (ps : List Piece) (ts rest : List Lexeme) → Written ps ts rest → sinks ps ts ≡ None
shallow_sinks [] ts rest w = refl
shallow_sinks (p ∷ ps) [] rest w = refl
shallow_sinks (anywhere k ∷ ps) (t ∷ ts) rest w = shallow_sinks ps ts rest w.1
shallow_sinks (placed k spot ∷ ps) (t ∷ ts) rest w = shallow_sinks ps ts rest w.1
shallow_sinks (deep k ∷ ps) (t ∷ ts) rest w = absurd w.0
shallow_sinks (never ∷ ps) (t ∷ ts) rest w = absurd w.0

-- the first piece that is too deep is told at its token
pub deep_sinks : (ps behind : List Piece) (k : Kind) (before : List Lexeme) (t : Lexeme) (after : List Lexeme) → Written ps before [] → sinks (ps ++ (deep k ∷ behind)) (before ++ t ∷ after) ≡ Some (spot_of t)
deep_sinks [] behind k before t after w = ap (λ (us : List Lexeme). sinks (deep k ∷ behind) (us ++ t ∷ after)) w
deep_sinks (p ∷ ps) behind k [] t after w = absurd w
deep_sinks (anywhere l ∷ ps) behind k (y ∷ before) t after w = deep_sinks ps behind k before t after w.1
deep_sinks (placed l spot ∷ ps) behind k (y ∷ before) t after w = deep_sinks ps behind k before t after w.1
deep_sinks (deep l ∷ ps) behind k (y ∷ before) t after w = absurd w.0
deep_sinks (never ∷ ps) behind k (y ∷ before) t after w = absurd w.0

-- Where the first piece stands that is too deep.
pub record Located (ps : List Piece) (ts : List Lexeme) (spot : Spot) : Type 0 where
  pub before : List Lexeme
  pub token : Lexeme
  pub after : List Lexeme
  pub stands : ts ≡ before ++ token ∷ after
  pub shallow : List Piece
  pub kind : Kind
  pub behind : List Piece
  pub whole : ps ≡ shallow ++ (deep kind ∷ behind)
  pub written : Written shallow before []
  pub opens : token.kind ≡ kind
  pub spelled : Spelled behind after []
  pub its_spot : spot_of token ≡ spot

pub some_is : (x y : Spot) → Some x ≡ Some y → x ≡ y
some_is x y e = cc

later_located : (p : Piece) (ps : List Piece) (t : Lexeme) (ts : List Lexeme) (spot : Spot) → IsPiece t p → Located ps ts spot → Located (p ∷ ps) (t ∷ ts) spot
later_located p ps t ts spot w l = record {
  before = t ∷ l.before;
  token = l.token;
  after = l.after;
  stands = ap (λ (us : List Lexeme). t ∷ us) l.stands;
  shallow = p ∷ l.shallow;
  kind = l.kind;
  behind = l.behind;
  whole = ap (λ (qs : List Piece). p ∷ qs) l.whole;
  written = (w, l.written);
  opens = l.opens;
  spelled = l.spelled;
  its_spot = l.its_spot;
}

pub located : (ps : List Piece) (ts : List Lexeme) (spot : Spot) → Spelled ps ts [] → sinks ps ts ≡ Some spot → Located ps ts spot
located [] ts spot w e = absurd cc
located (p ∷ ps) [] spot w e = absurd w
located (anywhere k ∷ ps) (t ∷ ts) spot w e = later_located (anywhere k) ps t ts spot w.0 (located ps ts spot w.1 e)
located (placed k s ∷ ps) (t ∷ ts) spot w e = later_located (placed k s) ps t ts spot w.0 (located ps ts spot w.1 e)
located (deep k ∷ ps) (t ∷ ts) spot w e = record { before = []; token = t; after = ts; stands = refl; shallow = []; kind = k; behind = ps; whole = refl; written = refl; opens = w.0; spelled = w.1; its_spot = some_is (spot_of t) spot e }
located (never ∷ ps) (t ∷ ts) spot w e = absurd w.0
