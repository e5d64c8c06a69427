-- What is written so is read so, or sinks where the tree opens one level of nesting too many: phrase by phrase.
use Rattle.std.proofs.Common.{◌≡◌, ℕ, zero, suc, ◌<◌, Bool, true, false, not, List, [], ◌∷◌, ◌++◌, length, Option, Some, None, Ok, Err, refl, sym, ap, subst, ◌∙◌, arith, lt-suc_self}
use Rattle.std.specs.List.{flat_map}
use Rattle.std.proofs.lemmas.List.Concat.{flat_map-cons}
use Rattle.ada_text.specs.declared.spot.Spot.{Spot}
use Rattle.ada_text.specs.Token.{Kind, identifier, number, string, Lexeme}
use Rattle.ada_tree.specs.Piece.{Piece, anywhere, placed, deep, never, IsSpelled, Spelled, opening, opening_at, guarded}
use Rattle.ada_tree.specs.Names.{Ident, ident_pieces}
use Rattle.ada_reader.specs.Step.{◌>>=◌, Phrase, Outcome, too_deep, spot_of, is_kind, is_identifier, is_at, at, not_at, fixed, identifier_at, number_at, string_at, nothing, continued, mapped, both, after, choose, many, all_of, opening_in, opened}
use Rattle.ada_parser.proofs.Sound.{is_filled, spelled_shorter, kind_is, spot_is}

-- What stands next: whether the next token passes this test. At the end none does.
pub record Follow : Type 0 where
  pub test : Kind → Bool
  pub value : Bool

abbrev pub Next : Follow → List Lexeme → Type 0
Next f rest = is_at f.test rest ≡ f.value

-- anything, or the end
abbrev pub any : Follow
any = record { test = λ _. false; value = false }

-- anything but this
abbrev pub unless : Kind → Follow
unless k = record { test = is_kind k; value = false }

-- this
abbrev pub before : Kind → Follow
before k = record { test = is_kind k; value = true }

-- anything but an identifier
abbrev pub no_identifier : Follow
no_identifier = record { test = is_identifier; value = false }

-- Where the first token stands that opens one level of nesting too many, if one does.
abbrev pub sinks : List Piece → List Lexeme → Option Spot
sinks [] ts = None
sinks (p ∷ ps) [] = None
sinks (deep k ∷ ps) (t ∷ ts) = Some (spot_of t)
sinks (anywhere k ∷ ps) (t ∷ ts) = sinks ps ts
sinks (placed k spot ∷ ps) (t ∷ ts) = sinks ps ts
sinks (never ∷ ps) (t ∷ ts) = sinks ps ts

-- What reading x gives: x, or where it sinks.
abbrev pub expected : {A : Type 0} → Option Spot → A → List Lexeme → Outcome A
expected None x rest = Ok (x, rest)
expected (Some spot) x rest = Err (too_deep spot)

-- the first of two that is there
abbrev pub or_else : Option Spot → Option Spot → Option Spot
or_else None other = other
or_else (Some spot) other = Some spot

-- Tokens that are written with the pieces, before what g allows, are what f allows.
pub record Leads (ps : List Piece) (g f : Follow) : Type 0 where
  pub next : (ts rest : List Lexeme) → Spelled ps ts rest → Next g rest → Next f ts

-- What is written with the pieces, before what f allows, is read as x, or sinks at the first of them that is too deep.
pub record Complete {A : Type 0} (ps : List Piece) (read : Phrase A) (x : A) (f : Follow) : Type 0 where
  pub reads : (ts rest : List Lexeme) → Spelled ps ts rest → Next f rest → read ts ≡ expected (sinks ps ts) x rest

-- ---- pieces

pub append_spelled : (ps qs : List Piece) (ts rest : List Lexeme) → Spelled (ps ++ qs) ts rest → (mid : List Lexeme) × Spelled ps ts mid × Spelled qs mid rest
append_spelled [] qs ts rest w = (ts, refl, w)
append_spelled (p ∷ ps) qs [] rest w = absurd w
append_spelled (p ∷ ps) qs (t ∷ ts) rest w = let s = append_spelled ps qs ts rest w.1 in (s.0, (w.0, s.1), s.2)

pub sinks_append : (ps qs : List Piece) (ts mid : List Lexeme) → Spelled ps ts mid → sinks (ps ++ qs) ts ≡ or_else (sinks ps ts) (sinks qs mid)
sinks_append [] qs ts mid w = ap (sinks qs) w
sinks_append (p ∷ ps) qs [] mid w = absurd w
sinks_append (anywhere k ∷ ps) qs (t ∷ ts) mid w = sinks_append ps qs ts mid w.1
sinks_append (placed k spot ∷ ps) qs (t ∷ ts) mid w = sinks_append ps qs ts mid w.1
sinks_append (deep k ∷ ps) qs (t ∷ ts) mid w = refl
sinks_append (never ∷ ps) qs (t ∷ ts) mid w = absurd w.0

-- ---- what stands next

pub any_next : (rest : List Lexeme) → Next any rest
any_next [] = refl
any_next (t ∷ ts) = refl

abbrev pub passes : (Kind → Bool) → Piece → Bool → Type 0
passes test (anywhere k) b = test k ≡ b
passes test (placed k spot) b = test k ≡ b
passes test (deep k) b = test k ≡ b
passes test never b = Unit {0}

first_is : (test : Kind → Bool) (p : Piece) (b : Bool) (t : Lexeme) → passes test p b → IsSpelled t p → test t.kind ≡ b
first_is test (anywhere k) b t e h = ap test h ∙ e
first_is test (placed k spot) b t e h = ap test h.0 ∙ e
first_is test (deep k) b t e h = ap test h ∙ e
first_is test never b t e h = absurd h

first_next : (p : Piece) (ps : List Piece) (f : Follow) (ts rest : List Lexeme) → passes f.test p f.value → Spelled (p ∷ ps) ts rest → Next f ts
first_next p ps f [] rest e w = absurd w
first_next p ps f (t ∷ ts) rest e w = first_is f.test p f.value t e w.0

-- the first piece is one that f allows
pub leads_first : {p : Piece} {ps : List Piece} {g f : Follow} → passes f.test p f.value → Leads (p ∷ ps) g f
leads_first {p} {ps} {g} {f} e = record { next = λ ts rest w n. first_next p ps f ts rest e w }

pub leads_any : {ps : List Piece} {g : Follow} → Leads ps g any
leads_any = record { next = λ ts rest w n. any_next ts }

pub leads_same : {f : Follow} → Leads [] f f
leads_same {f} = record { next = λ ts rest w n. subst (Next f) (sym w) n }

pub before_next : (k : Kind) (f : Follow) (rest : List Lexeme) → f.test k ≡ f.value → Next (before k) rest → Next f rest
before_next k f [] e n = absurd cc
before_next k f (t ∷ ts) e n = ap f.test (kind_is k t.kind n) ∙ e

-- what stands next is k, which f allows
pub leads_before : {f : Follow} (k : Kind) → f.test k ≡ f.value → Leads [] (before k) f
leads_before {f} k e = record { next = λ ts rest w n. subst (Next f) (sym w) (before_next k f rest e n) }

-- f is allowed by both, the first or what stands behind it
pub leads_through : {ps qs : List Piece} {g f : Follow} → Leads ps f f → Leads qs g f → Leads (ps ++ qs) g f
leads_through {ps} {qs} {g} {f} a b = record {
  next = λ ts rest w n. let s = append_spelled ps qs ts rest w in a.next ts s.0 s.1 (b.next s.0 rest s.2 n);
}

-- what the first allows before anything, it allows before more
pub leads_front : {ps : List Piece} {g f : Follow} (qs : List Piece) → Leads ps any f → Leads (ps ++ qs) g f
leads_front {ps} {g} {f} qs a = record {
  next = λ ts rest w n. let s = append_spelled ps qs ts rest w in a.next ts s.0 s.1 (any_next s.0);
}

items_lead : {A : Type 0} (w : A → List Piece) (f : Follow) → ((x : A) → Leads (w x) any f) → (xs : List A) (ts rest : List Lexeme) → Spelled (flat_map w xs) ts rest → Next f rest → Next f ts
items_lead w f each [] ts rest h n = subst (Next f) (sym h) n
items_lead w f each (x ∷ xs) ts rest h n =
    let s = append_spelled (w x) (flat_map w xs) ts rest (subst (λ (us : List Piece). Spelled us ts rest) (flat_map-cons w x xs) h) in (each x).next ts s.0 s.1 (any_next s.0)

-- each of a list begins as f allows
pub leads_items : {A : Type 0} {f : Follow} (w : A → List Piece) → ((x : A) → Leads (w x) any f) → (xs : List A) → Leads (flat_map w xs) f f
leads_items {A} {f} w each xs = record { next = items_lead w f each xs }

-- ---- phrases of phrases

pub complete_as : {A : Type 0} {ps qs : List Piece} {p : Phrase A} {x : A} {f : Follow} → Complete ps p x f → qs ≡ ps → Complete qs p x f
complete_as {A} {ps} {qs} {p} {x} {f} c e = subst (λ (us : List Piece). Complete us p x f) (sym e) c

-- before anything, and so before what g allows
pub weaken : {A : Type 0} {ps : List Piece} {p : Phrase A} {x : A} {g : Follow} → Complete ps p x any → Complete ps p x g
weaken c = record { reads = λ ts rest w n. c.reads ts rest w (any_next rest) }

never_reads : {A : Type 0} (p : Phrase A) (x : A) (ps : List Piece) (ts rest : List Lexeme) → Spelled (never ∷ ps) ts rest → p ts ≡ expected (sinks (never ∷ ps) ts) x rest
never_reads p x ps [] rest w = absurd w
never_reads p x ps (t ∷ ts) rest w = absurd w.0

-- nothing is written so
pub never_complete : {A : Type 0} {p : Phrase A} {x : A} {f : Follow} (ps : List Piece) → Complete (never ∷ ps) p x f
never_complete {A} {p} {x} {f} ps = record { reads = λ ts rest w n. never_reads p x ps ts rest w }

-- where the grammar allows it
pub guarded_complete : {A : Type 0} {ps : List Piece} {p : Phrase A} {x : A} {f : Follow} (b : Bool) → (b ≡ true → Complete ps p x f) → Complete (guarded b ps) p x f
guarded_complete true c = c refl
guarded_complete false c = never_complete []

pub nothing_complete : Complete [] nothing tt any
nothing_complete = record { reads = λ ts rest w n. ap (λ (us : List Lexeme). Ok (tt, us)) w }

mapped_expected : {A B : Type 0} (h : A → B) (o : Option Spot) (x : A) (rest : List Lexeme) → (expected o x rest >>= λ y. Ok (h y.0, y.1)) ≡ expected o (h x) rest
mapped_expected h None x rest = refl
mapped_expected h (Some spot) x rest = refl

pub mapped_complete : {A B : Type 0} {ps : List Piece} {p : Phrase A} {x : A} {f : Follow} (h : A → B) → Complete ps p x f → Complete ps (mapped h p) (h x) f
mapped_complete {A} {B} {ps} {p} {x} {f} h c = record { reads = λ ts rest w n. rw (c.reads ts rest w n) (mapped_expected h (sinks ps ts) x rest) }

continued_expected : {A B : Type 0} (q : A → Phrase B) (x : A) (y : B) (mid rest : List Lexeme) (o other : Option Spot) → q x mid ≡ expected other y rest → (expected o x mid >>= λ z. q z.0 z.1) ≡ expected (or_else o other) y rest
continued_expected q x y mid rest None other e = e
continued_expected q x y mid rest (Some spot) other e = refl

pub continued_complete : {A B : Type 0} {ps qs : List Piece} {p : Phrase A} {x : A} {y : B} {f g : Follow} (q : A → Phrase B) → Complete ps p x f → Complete qs (q x) y g → Leads qs g f → Complete (ps ++ qs) (continued p q) y g
continued_complete {A} {B} {ps} {qs} {p} {x} {y} {f} {g} q a b l = record {
  reads = λ ts rest w n.
      let s = append_spelled ps qs ts rest w in
      rw (a.reads ts s.0 s.1 (l.next s.0 rest s.2 n), sinks_append ps qs ts s.0 s.1)
      (continued_expected q x y s.0 rest (sinks ps ts) (sinks qs s.0) (b.reads s.0 rest s.2 n));
}

pub both_complete : {A B : Type 0} {ps qs : List Piece} {p : Phrase A} {q : Phrase B} {x : A} {y : B} {f g : Follow} → Complete ps p x f → Complete qs q y g → Leads qs g f → Complete (ps ++ qs) (both p q) (x, y) g
both_complete {A} {B} {ps} {qs} {p} {q} {x} {y} {f} {g} a b l = continued_complete (λ z. mapped (λ u. (z, u)) q) a (mapped_complete (λ u. (x, u)) b) l

pub choose_true : {A : Type 0} {ps : List Piece} {test : Kind → Bool} {p q : Phrase A} {x : A} {f : Follow} → Complete ps p x f → Leads ps f (record { test = test; value = true }) → Complete ps (choose (is_at test) p q) x f
choose_true c l = record { reads = λ ts rest w n. rw (l.next ts rest w n) (c.reads ts rest w n) }

pub choose_false : {A : Type 0} {ps : List Piece} {test : Kind → Bool} {p q : Phrase A} {x : A} {f : Follow} → Complete ps q x f → Leads ps f (record { test = test; value = false }) → Complete ps (choose (is_at test) p q) x f
choose_false c l = record { reads = λ ts rest w n. rw (l.next ts rest w n) (c.reads ts rest w n) }

-- ---- one token

fixed_reads : (k : Kind) (spot : Spot) (ts rest : List Lexeme) → is_kind k k ≡ true → Spelled (placed k spot ∷ []) ts rest → fixed k ts ≡ Ok (spot, rest)
unfolding fixed
fixed_reads k spot [] rest e w = absurd w
fixed_reads k spot (t ∷ ts) rest e w =
    let g : is_kind k t.kind ≡ true = ap (is_kind k) w.0.0 ∙ e in
    rw g (rw (spot_is t spot w.0.1 w.0.2, w.1) refl)

placed_sinks : (k : Kind) (spot : Spot) (ts : List Lexeme) → sinks (placed k spot ∷ []) ts ≡ None
placed_sinks k spot [] = refl
placed_sinks k spot (t ∷ ts) = refl

pub placed_complete : {k : Kind} (spot : Spot) → is_kind k k ≡ true → Complete (placed k spot ∷ []) (fixed k) spot any
placed_complete {k} spot e = record { reads = λ ts rest w n. rw (placed_sinks k spot ts) (fixed_reads k spot ts rest e w) }

after_reads : {A : Type 0} (k : Kind) (p : Phrase A) (x : A) (ps : List Piece) (f : Follow) (ts rest : List Lexeme) → is_kind k k ≡ true → Complete ps p x f → Spelled (anywhere k ∷ ps) ts rest → Next f rest → after k p ts ≡ expected (sinks (anywhere k ∷ ps) ts) x rest
unfolding fixed
after_reads k p x ps f [] rest e c w n = absurd w
after_reads k p x ps f (t ∷ ts) rest e c w n =
    let g : is_kind k t.kind ≡ true = ap (is_kind k) w.0 ∙ e in
    rw g (c.reads ts rest w.1 n)

pub after_complete : {A : Type 0} {k : Kind} {p : Phrase A} {x : A} {ps : List Piece} {f : Follow} → is_kind k k ≡ true → Complete ps p x f → Complete (anywhere k ∷ ps) (after k p) x f
after_complete {A} {k} {p} {x} {ps} {f} e c = record { reads = λ ts rest w n. after_reads k p x ps f ts rest e c w n }

-- an opening token, and what stands behind it; where there is no room for it, reading sinks there
deep_reads : {A : Type 0} (k : Kind) (q : Spot → Phrase A) (x : A) (ps : List Piece) (ts rest : List Lexeme) → is_kind k k ≡ true → Spelled (deep k ∷ ps) ts rest → continued (opening_in 0 k) q ts ≡ expected (sinks (deep k ∷ ps) ts) x rest
unfolding fixed
deep_reads k q x ps [] rest e w = absurd w
deep_reads k q x ps (t ∷ ts) rest e w = let g : is_kind k t.kind ≡ true = ap (is_kind k) w.0 ∙ e in rw g refl

opened_reads : {A : Type 0} (room : ℕ) (k : Kind) (p : Phrase A) (x : A) (ps : List Piece) (f : Follow) (ts rest : List Lexeme) → is_kind k k ≡ true → Complete ps p x f → Spelled (anywhere k ∷ ps) ts rest → Next f rest → opened (suc room) k p ts ≡ expected (sinks (anywhere k ∷ ps) ts) x rest
unfolding fixed
opened_reads room k p x ps f [] rest e c w n = absurd w
opened_reads room k p x ps f (t ∷ ts) rest e c w n =
    let g : is_kind k t.kind ≡ true = ap (is_kind k) w.0 ∙ e in
    rw g (c.reads ts rest w.1 n)

pub opened_complete : {A : Type 0} {p : Phrase A} {x : A} {ps : List Piece} {f : Follow} (room : ℕ) (k : Kind) → is_kind k k ≡ true → ((less : ℕ) → room ≡ suc less → Complete ps p x f) → Complete (opening room k ∷ ps) (opened room k p) x f
opened_complete {A} {p} {x} {ps} {f} zero k e c = record { reads = λ ts rest w n. deep_reads k (λ _. p) x ps ts rest e w }
opened_complete {A} {p} {x} {ps} {f} (suc room) k e c = record { reads = λ ts rest w n. opened_reads room k p x ps f ts rest e (c room refl) w n }

opened_at_reads : {A : Type 0} (room : ℕ) (k : Kind) (spot : Spot) (q : Spot → Phrase A) (x : A) (ps : List Piece) (f : Follow) (ts rest : List Lexeme) → is_kind k k ≡ true → Complete ps (q spot) x f → Spelled (placed k spot ∷ ps) ts rest → Next f rest → continued (opening_in (suc room) k) q ts ≡ expected (sinks (placed k spot ∷ ps) ts) x rest
unfolding fixed
opened_at_reads room k spot q x ps f [] rest e c w n = absurd w
opened_at_reads room k spot q x ps f (t ∷ ts) rest e c w n =
    let g : is_kind k t.kind ≡ true = ap (is_kind k) w.0.0 ∙ e in
    rw g (rw (spot_is t spot w.0.1 w.0.2) (c.reads ts rest w.1 n))

-- the same where the tree keeps the token's spot
pub opened_at_complete : {A : Type 0} {x : A} {ps : List Piece} {f : Follow} (room : ℕ) (k : Kind) (spot : Spot) (q : Spot → Phrase A) → is_kind k k ≡ true → ((less : ℕ) → room ≡ suc less → Complete ps (q spot) x f) → Complete (opening_at room k spot ∷ ps) (continued (opening_in room k) q) x f
opened_at_complete {A} {x} {ps} {f} zero k spot q e c = record { reads = λ ts rest w n. deep_reads k q x ps ts rest e w }
opened_at_complete {A} {x} {ps} {f} (suc room) k spot q e c = record { reads = λ ts rest w n. opened_at_reads room k spot q x ps f ts rest e (c room refl) w n }

identifier_reads : (i : Ident) (ts rest : List Lexeme) → Spelled (ident_pieces i) ts rest → identifier_at ts ≡ Ok (i, rest)
unfolding identifier_at
identifier_reads i [] rest w = absurd w
identifier_reads i (t ∷ ts) rest w = rw w.0.0 (rw (spot_is t i.spot w.0.1 w.0.2, w.1) refl)

pub identifier_complete : (i : Ident) → Complete (ident_pieces i) identifier_at i any
identifier_complete i = record { reads = λ ts rest w n. rw (placed_sinks (identifier i.text) i.spot ts) (identifier_reads i ts rest w) }

number_reads : (m : ℕ) (spot : Spot) (ts rest : List Lexeme) → Spelled (placed (number m) spot ∷ []) ts rest → number_at ts ≡ Ok ((m, spot), rest)
unfolding number_at
number_reads m spot [] rest w = absurd w
number_reads m spot (t ∷ ts) rest w = rw w.0.0 (rw (spot_is t spot w.0.1 w.0.2, w.1) refl)

pub number_complete : (m : ℕ) (spot : Spot) → Complete (placed (number m) spot ∷ []) number_at (m, spot) any
number_complete m spot = record { reads = λ ts rest w n. rw (placed_sinks (number m) spot ts) (number_reads m spot ts rest w) }

amount_reads : (m : ℕ) (ts rest : List Lexeme) → Spelled (anywhere (number m) ∷ []) ts rest → mapped (λ (x : ℕ × Spot). x.0) number_at ts ≡ expected (sinks (anywhere (number m) ∷ []) ts) m rest
unfolding number_at
amount_reads m [] rest w = absurd w
amount_reads m (t ∷ ts) rest w = rw w.0 (ap (λ (us : List Lexeme). Ok (m, us)) w.1)

pub amount_complete : (m : ℕ) → Complete (anywhere (number m) ∷ []) (mapped (λ (x : ℕ × Spot). x.0) number_at) m any
amount_complete m = record { reads = λ ts rest w n. amount_reads m ts rest w }

string_reads : (b : List ℕ) (spot : Spot) (ts rest : List Lexeme) → Spelled (placed (string b) spot ∷ []) ts rest → string_at ts ≡ Ok ((b, spot), rest)
unfolding string_at
string_reads b spot [] rest w = absurd w
string_reads b spot (t ∷ ts) rest w = rw w.0.0 (rw (spot_is t spot w.0.1 w.0.2, w.1) refl)

pub string_complete : (b : List ℕ) (spot : Spot) → Complete (placed (string b) spot ∷ []) string_at (b, spot) any
string_complete b spot = record { reads = λ ts rest w n. rw (placed_sinks (string b) spot ts) (string_reads b spot ts rest w) }

-- ---- lists of phrases

-- What each item of a list is, and what stands behind it.
pub record Items {A : Type 0} (w : A → List Piece) (item : Phrase A) (goes : List Lexeme → Bool) (f g : Follow) : Type 0 where
  pub filled : (x : A) → is_filled (w x) ≡ true
  pub each : (x : A) → Complete (w x) item x f
  pub starts : (x : A) (ts rest : List Lexeme) → Spelled (w x) ts rest → goes ts ≡ true
  pub again : (x : A) → Leads (w x) any f
  pub ends : (rest : List Lexeme) → Next g rest → goes rest ≡ false
  pub last : Leads [] g f

more_expected : {A : Type 0} (goes : List Lexeme → Bool) (item : Phrase A) (n : ℕ) (x : A) (xs : List A) (mid rest : List Lexeme) (o other : Option Spot) → many goes item n mid ≡ expected other xs rest → (expected o x mid >>= λ y. many goes item n y.1 >>= λ ys. Ok (y.0 ∷ ys.0, ys.1)) ≡ expected (or_else o other) (x ∷ xs) rest
more_expected goes item n x xs mid rest None None e = rw e refl
more_expected goes item n x xs mid rest None (Some spot) e = rw e refl
more_expected goes item n x xs mid rest (Some spot) other e = refl

many_reads : {A : Type 0} (w : A → List Piece) (item : Phrase A) (goes : List Lexeme → Bool) (f g : Follow) → Items w item goes f g → (xs : List A) (n : ℕ) (ts rest : List Lexeme) → length ts < n → Spelled (flat_map w xs) ts rest → Next g rest → many goes item n ts ≡ expected (sinks (flat_map w xs) ts) xs rest
many_reads w item goes f g items xs zero ts rest less h e = absurd (omega arith)
many_reads w item goes f g items [] (suc n) ts rest less h e =
    let stop : goes ts ≡ false = subst (λ (us : List Lexeme). goes us ≡ false) (sym h) (items.ends rest e) in
    rw stop (ap (λ (us : List Lexeme). Ok ([], us)) h)
many_reads w item goes f g items (x ∷ xs) (suc n) ts rest less h e =
    let s = append_spelled (w x) (flat_map w xs) ts rest (subst (λ (us : List Piece). Spelled us ts rest) (flat_map-cons w x xs) h) in
    let behind : Next f s.0 = items_lead w f items.again xs s.0 rest s.2 (items.last.next rest rest refl e) in
    let shorter : length s.0 < length ts = spelled_shorter (w x) ts s.0 (items.filled x) s.1 in
    let one : item ts ≡ expected (sinks (w x) ts) x s.0 = (items.each x).reads ts s.0 s.1 behind in
    let others : many goes item n s.0 ≡ expected (sinks (flat_map w xs) s.0) xs rest = many_reads w item goes f g items xs n s.0 rest (omega arith) s.2 e in
    let sunk : sinks (flat_map w (x ∷ xs)) ts ≡ or_else (sinks (w x) ts) (sinks (flat_map w xs) s.0) = ap (λ (us : List Piece). sinks us ts) (flat_map-cons w x xs) ∙ sinks_append (w x) (flat_map w xs) ts s.0 s.1 in
    rw (items.starts x ts s.0 s.1, one, sunk) (more_expected goes item n x xs s.0 rest (sinks (w x) ts) (sinks (flat_map w xs) s.0) others)

pub all_complete : {A : Type 0} {w : A → List Piece} {item : Phrase A} {goes : List Lexeme → Bool} {f g : Follow} → Items w item goes f g → (xs : List A) → Complete (flat_map w xs) (all_of goes item) xs g
unfolding all_of
all_complete {A} {w} {item} {goes} {f} {g} items xs = record { reads = λ ts rest h e. many_reads w item goes f g items xs (suc (length ts)) ts rest (lt-suc_self (length ts)) h e }

-- items that begin with k, as long as one does
pub while_items : {A : Type 0} {w : A → List Piece} {item : Phrase A} {f g : Follow} (k : Kind) → ((x : A) → is_filled (w x) ≡ true) → ((x : A) → Complete (w x) item x f) → ((x : A) → Leads (w x) any (before k)) → ((x : A) → Leads (w x) any f) → Leads [] g (unless k) → Leads [] g f → Items w item (at k) f g
while_items k filled each starts again ends last = record {
  filled = filled;
  each = each;
  starts = λ x ts rest h. (starts x).next ts rest h (any_next rest);
  again = again;
  ends = λ rest e. ends.next rest rest refl e;
  last = last;
}

-- items that do not begin with k, up to k
pub until_items : {A : Type 0} {w : A → List Piece} {item : Phrase A} {f g : Follow} (k : Kind) → ((x : A) → is_filled (w x) ≡ true) → ((x : A) → Complete (w x) item x f) → ((x : A) → Leads (w x) any (unless k)) → ((x : A) → Leads (w x) any f) → Leads [] g (before k) → Leads [] g f → Items w item (not_at k) f g
until_items k filled each starts again ends last = record {
  filled = filled;
  each = each;
  starts = λ x ts rest h. ap not ((starts x).next ts rest h (any_next rest));
  again = again;
  ends = λ rest e. ap not (ends.next rest rest refl e);
  last = last;
}
