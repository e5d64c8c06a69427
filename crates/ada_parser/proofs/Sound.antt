-- What is read is written so; and what was read where reading stops is how some tree begins: phrase by phrase.
use Rattle.std.proofs.Common.{◌≡◌, ℕ, zero, suc, ◌<◌, ◌≤◌, Bool, true, false, cond, List, [], ◌∷◌, ◌++◌, length, Result, Ok, Err, ◌⊎◌, inl, inr, refl, sym, ap, subst, ◌∙◌, append_assoc, append-nil, lt-suc_self, arith}
use Rattle.std.specs.List.{flat_map}
use Rattle.std.proofs.lemmas.List.{append_cancel_right}
use Rattle.std.proofs.lemmas.List.Concat.{flat_map-cons}
use denote.Enum.Bare.{same_true}
use Rattle.ada_text.specs.contracts.word.Word.{the_type as words}
use Rattle.ada_text.specs.contracts.delimiter.Delimiter.{the_type as delimiters}
use Rattle.ada_text.specs.declared.word.Word.TheVariants.{New}
use Rattle.ada_text.specs.declared.spot.Spot.{Spot}
use Rattle.ada_text.specs.Token.{Kind, identifier, number, string, reserved, delimiter, Lexeme}
use Rattle.ada_tree.specs.Piece.{Piece, anywhere, placed, deep, never, IsPiece, Written, IsSpelled, Spelled, opening, opening_at, guarded}
use Rattle.ada_tree.specs.Names.{Ident, ident_pieces}
use Rattle.ada_reader.specs.Step.{◌>>=◌, Stopped, here, too_deep, Phrase, spot_of, is_kind, fixed, identifier_from, identifier_at, number_from, number_at, string_from, string_at, allowed, opening_in, opened, nothing, continued, mapped, both, after, choose, many, all_of, joined, chain, at}
use Rattle.ada_parser.specs.FirstFault.{MayFollow}
use Rattle.ada_parser.proofs.Local.{left_of, Fate, found, failed, sunk, passed, Plain, Peeks, Advances, all_unfold, chain_unfold, rest_shorter, OneToken, taken, refused, Single, nothing_plain, mapped_plain, continued_plain, choose_plain, all_plain, chain_plain, single_plain, fixed_single, identifier_single, number_single, string_single, opening_plain, failing_here, refuses_plain}

-- the value of a step that did not fail
pub bind_ok : {A B E : Type 0} (r : Result A E) (f : A → Result B E) (y : B) → (r >>= f) ≡ Ok y → (x : A) × (r ≡ Ok x) × (f x ≡ Ok y)
bind_ok (Ok x) f y e = (x, refl, e)
bind_ok (Err d) f y e = absurd cc

pub chosen : {A : Type 0} (b : Bool) (x y z : A) → cond b x y ≡ z → ((b ≡ true) × (x ≡ z)) ⊎ ((b ≡ false) × (y ≡ z))
chosen true x y z e = inl (refl, e)
chosen false x y z e = inr (refl, e)

abbrev pub done : {A E : Type 0} → A → Result A E
done x = Ok x

pub ok_is : {A : Type 0} (x y : A) → done {E = Stopped} x ≡ done y → x ≡ y
ok_is x y e = cc

abbrev failing : {A E : Type 0} → E → Result A E
failing e = Err e

refused_is : {A B E : Type 0} (c d : E) → failing {A = B} c ≡ failing d → failing {A = A} c ≡ failing d
refused_is c d e = let h : c ≡ d = cc in ap failing h

-- the value of a step that failed, or the step behind it failed
pub bind_err : {A B E : Type 0} (r : Result A E) (f : A → Result B E) (d : E) → (r >>= f) ≡ Err d → (r ≡ Err d) ⊎ ((x : A) × (r ≡ Ok x) × (f x ≡ Err d))
bind_err (Ok x) f d e = inr (x, refl, e)
bind_err {A} {B} (Err c) f d e = inl (refused_is c d e)

pub err_is : {A : Type 0} (x y : Stopped) → failing {A = A} x ≡ failing y → x ≡ y
err_is x y e = cc

-- ---- pieces

-- a list of pieces has one at least
abbrev pub is_filled : List Piece → Bool
is_filled [] = false
is_filled (piece ∷ pieces) = true

-- A token may be such a one, past the limit of nesting or before.
abbrev pub IsAble : Piece → Type 0
IsAble (anywhere k) = Unit {0}
IsAble (placed k spot) = Unit {0}
IsAble (deep k) = Unit {0}
IsAble never = ⊥

-- Something may be written so, past the limit of nesting or before.
abbrev pub Able : List Piece → Type 0
Able [] = Unit {0}
Able (piece ∷ pieces) = IsAble piece × Able pieces

pub able_append : (ps qs : List Piece) → Able ps → Able qs → Able (ps ++ qs)
able_append [] qs p q = q
able_append (piece ∷ ps) qs p q = (p.0, able_append ps qs p.1 q)

-- where a guarded phrase may be written its guard holds
pub guard_holds : (b : Bool) (ps : List Piece) → Able (guarded b ps) → b ≡ true
guard_holds true ps able = refl
guard_holds false ps able = absurd able.0

pub guard_true : (b : Bool) (ps : List Piece) → b ≡ true → guarded b ps ≡ ps
guard_true b ps e = ap (λ c. guarded c ps) e

able_piece : (p : Piece) (t : Lexeme) → IsSpelled t p → IsAble p
able_piece (anywhere k) t h = tt
able_piece (placed k spot) t h = tt
able_piece (deep k) t h = tt
able_piece never t h = absurd h

spelled_piece : (p : Piece) (t : Lexeme) → IsPiece t p → IsSpelled t p
spelled_piece (anywhere k) t h = h
spelled_piece (placed k spot) t h = h
spelled_piece (deep k) t h = absurd h
spelled_piece never t h = absurd h

pub spelled_able : (ps : List Piece) (ts rest : List Lexeme) → Spelled ps ts rest → Able ps
spelled_able [] ts rest w = tt
spelled_able (p ∷ ps) [] rest w = absurd w
spelled_able (p ∷ ps) (t ∷ ts) rest w = (able_piece p t w.0, spelled_able ps ts rest w.1)

pub written_spelled : (ps : List Piece) (ts rest : List Lexeme) → Written ps ts rest → Spelled ps ts rest
written_spelled [] ts rest w = w
written_spelled (p ∷ ps) [] rest w = absurd w
written_spelled (p ∷ ps) (t ∷ ts) rest w = (spelled_piece p t w.0, written_spelled ps ts rest w.1)

pub written_able : (ps : List Piece) (ts rest : List Lexeme) → Written ps ts rest → Able ps
written_able ps ts rest w = spelled_able ps ts rest (written_spelled ps ts rest w)

pub Written-append : (ps qs : List Piece) (ts mid rest : List Lexeme) → Written ps ts mid → Written qs mid rest → Written (ps ++ qs) ts rest
Written-append [] qs ts mid rest p q = subst (λ (us : List Lexeme). Written qs us rest) (sym p) q
Written-append (piece ∷ ps) qs [] mid rest p q = absurd p
Written-append (piece ∷ ps) qs (t ∷ ts) mid rest p q = (p.0, Written-append ps qs ts mid rest p.1 q)

spelled_less : (ps : List Piece) (ts rest : List Lexeme) → Spelled ps ts rest → length rest ≤ length ts
spelled_less [] ts rest w = let P : List Lexeme → Type 0 = λ us. length us ≤ length ts in subst P w (omega arith)
spelled_less (p ∷ ps) [] rest w = absurd w
spelled_less (p ∷ ps) (t ∷ ts) rest w = let h : length rest ≤ length ts = spelled_less ps ts rest w.1 in omega arith

pub spelled_shorter : (ps : List Piece) (ts rest : List Lexeme) → is_filled ps ≡ true → Spelled ps ts rest → length rest < length ts
spelled_shorter [] ts rest e w = absurd cc
spelled_shorter (p ∷ ps) [] rest e w = absurd w
spelled_shorter (p ∷ ps) (t ∷ ts) rest e w = let h : length rest ≤ length ts = spelled_less ps ts rest w.1 in omega arith

-- ---- pieces and tokens

-- pieces are written with tokens of their own, whatever stands behind those
pub written_used : (ps : List Piece) (ts rest : List Lexeme) → Written ps ts rest → (used : List Lexeme) × (ts ≡ used ++ rest) × Written ps used []
written_used [] ts rest w = ([], w, refl)
written_used (p ∷ ps) [] rest w = absurd w
written_used (p ∷ ps) (t ∷ ts) rest w =
    let s = written_used ps ts rest w.1 in
    (t ∷ s.0, ap (λ (us : List Lexeme). t ∷ us) s.1, (w.0, s.2))

-- and so they are before any others
pub written_before : (ps : List Piece) (used rest : List Lexeme) → Written ps used [] → Written ps (used ++ rest) rest
written_before [] used rest w = ap (λ (us : List Lexeme). us ++ rest) w
written_before (p ∷ ps) [] rest w = absurd w
written_before (p ∷ ps) (t ∷ used) rest w = (w.0, written_before ps used rest w.1)

-- whether a piece is the word `new`
abbrev pub is_anew : Piece → Bool
is_anew (anywhere k) = is_kind (reserved New) k
is_anew (placed k spot) = is_kind (reserved New) k
is_anew (deep k) = is_kind (reserved New) k
is_anew never = false

-- whether pieces begin with `new`
abbrev pub begins_anew : List Piece → Bool
begins_anew [] = false
begins_anew (p ∷ ps) = is_anew p

-- They may be written, and not with `new` first.
abbrev pub Ready : List Piece → Type 0
Ready ps = Able ps × (begins_anew ps ≡ false)

anew_append : (ps qs : List Piece) → begins_anew ps ≡ false → begins_anew qs ≡ false → begins_anew (ps ++ qs) ≡ false
anew_append [] qs e f = f
anew_append (p ∷ ps) qs e f = e

pub ready_append : (ps qs : List Piece) → Ready ps → Ready qs → Ready (ps ++ qs)
ready_append ps qs a b = (able_append ps qs a.0 b.0, anew_append ps qs a.1 b.1)

-- ---- where reading stops

-- What is told is settled by the tokens that are shown, whatever may stand behind them; or it stands open up to the next token, between this spot and another one before it.
pub data Tells {A : Type 0} (read : Phrase A) (before : List Lexeme) (token : Lexeme) (shown left : List Lexeme) (spot : Spot) : Type 0 where
  settled : ((more : List Lexeme) → MayFollow left more → read (before ++ token ∷ (shown ++ more)) ≡ Err (too_deep spot)) → Tells read before token shown left spot
  unsettled : (other : Spot) → ((more : List Lexeme) → (read (before ++ token ∷ more) ≡ Err (too_deep spot)) ⊎ (read (before ++ token ∷ more) ≡ Err (too_deep other))) → ((t : Lexeme) (more rest : List Lexeme) → left ≡ t ∷ rest → read (before ++ token ∷ (shown ++ t ∷ more)) ≡ Err (too_deep spot)) → Tells read before token shown left spot

-- The token at this spot is the first of the pieces that is nested too deep; those behind it that are shown are there too.
pub record Sinks {A : Type 0} (read : Phrase A) (ps : List Piece) (ts : List Lexeme) (spot : Spot) : Type 0 where
  pub shallow : List Piece
  pub kind : Kind
  pub behind : List Piece
  pub whole : ps ≡ shallow ++ (deep kind ∷ behind)
  pub before : List Lexeme
  pub token : Lexeme
  pub shown : List Lexeme
  pub left : List Lexeme
  pub split : ts ≡ before ++ token ∷ (shown ++ left)
  pub written : Written shallow before []
  pub is_so : token.kind ≡ kind
  pub stands : spot_of token ≡ spot
  pub spelled : Spelled behind shown []
  pub tells : Tells read before token shown left spot

-- The tokens up to where reading stops are the pieces.
abbrev pub Reached : {A : Type 0} → Phrase A → List Piece → List Lexeme → Stopped → Type 0
Reached read ps ts (here left) = Written ps ts left
Reached read ps ts (too_deep spot) = Sinks read ps ts spot

-- Where the phrase stops behind those used, the whole stops so too; of the tokens behind them only the first counts.
abbrev pub Carries : {A B : Type 0} → Phrase A → List Lexeme → List Lexeme → Phrase B → Type 0
Carries read used ts whole = (t : Lexeme) (rest : List Lexeme) → ts ≡ t ∷ rest → (more : List Lexeme) (s : Stopped) → read (t ∷ more) ≡ Err s → whole (used ++ t ∷ more) ≡ Err s

carried : {A B : Type 0} (read : Phrase A) (whole : Phrase B) (used before : List Lexeme) (token : Lexeme) (rest more : List Lexeme) (s : Stopped) → Carries read used (before ++ token ∷ rest) whole → read (before ++ token ∷ more) ≡ Err s → whole ((used ++ before) ++ token ∷ more) ≡ Err s
carried read whole used [] token rest more s c e = ap whole (append_assoc used [] (token ∷ more)) ∙ c token rest refl more s e
carried read whole used (t ∷ before) token rest more s c e = ap whole (append_assoc used (t ∷ before) (token ∷ more)) ∙ c t (before ++ token ∷ rest) refl (before ++ token ∷ more) s e

tells_on : {A B : Type 0} (read : Phrase A) (whole : Phrase B) (used before : List Lexeme) (token : Lexeme) (shown left : List Lexeme) (spot : Spot) → Carries read used (before ++ token ∷ (shown ++ left)) whole → Tells read before token shown left spot → Tells whole (used ++ before) token shown left spot
tells_on read whole used before token shown left spot c (settled h) = settled (λ more f. carried read whole used before token (shown ++ left) (shown ++ more) (too_deep spot) c (h more f))
tells_on read whole used before token shown left spot c (unsettled other h g) = unsettled other
    (λ more. elim (h more) [
      | inl e ↦ inl (carried read whole used before token (shown ++ left) more (too_deep spot) c e)
      | inr e ↦ inr (carried read whole used before token (shown ++ left) more (too_deep other) c e)
    ])
    (λ t more rest e. carried read whole used before token (shown ++ left) (shown ++ t ∷ more) (too_deep spot) c (g t more rest e))

sinks_on : {A B : Type 0} (read : Phrase A) (whole : Phrase B) (ps qs : List Piece) (used mid : List Lexeme) (spot : Spot) → Written ps used [] → Carries read used mid whole → Sinks read qs mid spot → Sinks whole (ps ++ qs) (used ++ mid) spot
sinks_on read whole ps qs used mid spot w c s = record {
  shallow = ps ++ s.shallow;
  kind = s.kind;
  behind = s.behind;
  whole = ap (λ (l : List Piece). ps ++ l) s.whole ∙ sym (append_assoc ps s.shallow (deep s.kind ∷ s.behind));
  before = used ++ s.before;
  token = s.token;
  shown = s.shown;
  left = s.left;
  split = ap (λ (l : List Lexeme). used ++ l) s.split ∙ sym (append_assoc used s.before (s.token ∷ (s.shown ++ s.left)));
  written = Written-append ps s.shallow (used ++ s.before) s.before [] (written_before ps used s.before w) s.written;
  is_so = s.is_so;
  stands = s.stands;
  spelled = s.spelled;
  tells = tells_on read whole used s.before s.token s.shown s.left spot (subst (λ (l : List Lexeme). Carries read used l whole) s.split c) s.tells;
}

pub reached_on : {A B : Type 0} (read : Phrase A) (whole : Phrase B) (ps qs : List Piece) (used mid : List Lexeme) (s : Stopped) → Written ps used [] → Carries read used mid whole → Reached read qs mid s → Reached whole (ps ++ qs) (used ++ mid) s
reached_on read whole ps qs used mid (here left) w c r = Written-append ps qs (used ++ mid) mid left (written_before ps used mid w) r
reached_on read whole ps qs used mid (too_deep spot) w c r = sinks_on read whole ps qs used mid spot w c r

-- where a phrase stops behind another, the whole stops
pub reached_append : {A B : Type 0} (read : Phrase A) (whole : Phrase B) (ps qs : List Piece) (ts mid : List Lexeme) (s : Stopped) → Written ps ts mid → ((used : List Lexeme) → ts ≡ used ++ mid → Carries read used mid whole) → Reached read qs mid s → Reached whole (ps ++ qs) ts s
reached_append read whole ps qs ts mid s w c r =
    let u = written_used ps ts mid w in
    subst (λ (us : List Lexeme). Reached whole (ps ++ qs) us s) (sym u.1) (reached_on read whole ps qs u.0 mid s u.2 (c u.0 u.1) r)

-- where its first phrase stops, the whole stops
pub reached_first : {A B : Type 0} (read : Phrase A) (whole : Phrase B) (ps : List Piece) (ts : List Lexeme) (s : Stopped) → Carries read [] ts whole → Reached read ps ts s → Reached whole ps ts s
reached_first read whole ps ts s c r = reached_on read whole [] ps [] ts s refl c r

reached_able : {A : Type 0} (read : Phrase A) (ps : List Piece) (ts : List Lexeme) (s : Stopped) → Reached read ps ts s → Able ps
reached_able read ps ts (here left) r = written_able ps ts left r
reached_able read ps ts (too_deep spot) r = subst Able (sym r.whole) (able_append r.shallow (deep r.kind ∷ r.behind) (written_able r.shallow r.before [] r.written) (tt, spelled_able r.behind r.shown [] r.spelled))

-- what was read stays so, whatever stands behind the first token that it leaves
fate_stays : {A : Type 0} (read : Phrase A) (used : List Lexeme) (t : Lexeme) (rest : List Lexeme) (x : A) → read (used ++ t ∷ rest) ≡ Ok (x, t ∷ rest) → Fate read used t → (more : List Lexeme) → read (used ++ t ∷ more) ≡ Ok (x, t ∷ more)
fate_stays {A} read used t rest x e (found y v h) more =
    let same : (y, v ++ t ∷ rest) ≡ (x, t ∷ rest) = ok_is (y, v ++ t ∷ rest) (x, t ∷ rest) (sym (h rest) ∙ e) in
    let none : v ≡ [] = append_cancel_right v [] (t ∷ rest) (ap (λ (z : A × List Lexeme). z.1) same) in
    h more ∙ (ap (λ (z : A). done (z, v ++ t ∷ more)) (ap (λ (z : A × List Lexeme). z.0) same) ∙ ap (λ (w : List Lexeme). done (x, w ++ t ∷ more)) none)
fate_stays read used t rest x e (failed v h) more = absurd (let c : ⊥ = (let q = sym (h rest) ∙ e in cc) in c)
fate_stays read used t rest x e (sunk spot h) more = absurd (let c : ⊥ = (let q = sym (h rest) ∙ e in cc) in c)
fate_stays read used t rest x e (passed le) more =
    let far : length (left_of (read (used ++ t ∷ rest))) ≡ suc (length rest) = ap (λ r. length (left_of r)) e in
    absurd (omega (arith, le rest))

pub stays : {A : Type 0} (read : Phrase A) → Plain read → (used : List Lexeme) (t : Lexeme) (rest : List Lexeme) (x : A) → read (used ++ t ∷ rest) ≡ Ok (x, t ∷ rest) → (more : List Lexeme) → read (used ++ t ∷ more) ≡ Ok (x, t ∷ more)
stays read plain used t rest x e more = fate_stays read used t rest x e (plain.fate used t) more

fate_stops : {A : Type 0} (read : Phrase A) (used : List Lexeme) (t : Lexeme) (rest : List Lexeme) → read (used ++ t ∷ rest) ≡ Err (here (t ∷ rest)) → Fate read used t → (more : List Lexeme) → read (used ++ t ∷ more) ≡ Err (here (t ∷ more))
fate_stops read used t rest e (found x v h) more = absurd (let c : ⊥ = (let q = sym (h rest) ∙ e in cc) in c)
fate_stops {A} read used t rest e (failed v h) more =
    let same : here (v ++ t ∷ rest) ≡ here (t ∷ rest) = err_is {A = A × List Lexeme} (here (v ++ t ∷ rest)) (here (t ∷ rest)) (sym (h rest) ∙ e) in
    let none : v ≡ [] = append_cancel_right v [] (t ∷ rest) (let q : v ++ t ∷ rest ≡ t ∷ rest = cc in q) in
    h more ∙ ap (λ (w : List Lexeme). Err (here (w ++ t ∷ more))) none
fate_stops read used t rest e (sunk spot h) more = absurd (let c : ⊥ = (let q = sym (h rest) ∙ e in cc) in c)
fate_stops read used t rest e (passed le) more =
    let far : length (left_of (read (used ++ t ∷ rest))) ≡ suc (length rest) = ap (λ r. length (left_of r)) e in
    absurd (omega (arith, le rest))

-- where reading stops at a token, it stops there whatever stands behind it
pub stops_there : {A : Type 0} (read : Phrase A) → Plain read → (used : List Lexeme) (t : Lexeme) (rest : List Lexeme) → read (used ++ t ∷ rest) ≡ Err (here (t ∷ rest)) → (more : List Lexeme) → read (used ++ t ∷ more) ≡ Err (here (t ∷ more))
stops_there read plain used t rest e more = fate_stops read used t rest e (plain.fate used t) more

pub carries_on : {A B : Type 0} (read : Phrase A) (q : A → Phrase B) → Plain read → (ts mid : List Lexeme) (x : A) → read ts ≡ Ok (x, mid) → (used : List Lexeme) → ts ≡ used ++ mid → Carries (q x) used mid (continued read q)
carries_on {A} read q plain ts mid x e used split t rest m more s d =
    let there : read (used ++ t ∷ rest) ≡ Ok (x, t ∷ rest) = subst (λ (us : List Lexeme). read (used ++ us) ≡ done (x, us)) m (subst (λ (us : List Lexeme). read us ≡ done (x, mid)) split e) in
    rw (stays read plain used t rest x there more) d

pub carries_first : {A B : Type 0} (read : Phrase A) (q : A → Phrase B) (ts : List Lexeme) → Carries read [] ts (continued read q)
carries_first read q ts t rest e more s d = rw d refl

pub carries_chosen : {A : Type 0} (test : List Lexeme → Bool) (p q : Phrase A) (ts : List Lexeme) → Peeks test → test ts ≡ true → Carries p [] ts (choose test p q)
carries_chosen test p q ts peeks h t rest e more s d =
    let g : test (t ∷ more) ≡ true = peeks t more rest ∙ subst (λ (us : List Lexeme). test us ≡ true) e h in
    rw g d

pub carries_other : {A : Type 0} (test : List Lexeme → Bool) (p q : Phrase A) (ts : List Lexeme) → Peeks test → test ts ≡ false → Carries q [] ts (choose test p q)
carries_other test p q ts peeks h t rest e more s d =
    let g : test (t ∷ more) ≡ false = peeks t more rest ∙ subst (λ (us : List Lexeme). test us ≡ false) e h in
    rw g d

-- Of a tree that begins with the front, the pieces behind it that are there are some of its first; the others may be written, and not with `new` first.
pub record Stuck {A : Type 0} (read : Phrase A) (front : List Piece) (pieces : A → List Piece) (ts : List Lexeme) (s : Stopped) : Type 0 where
  pub tree : A
  pub begun : List Piece
  pub more : List Piece
  pub whole : pieces tree ≡ front ++ (begun ++ more)
  pub reached : Reached read begun ts s
  pub ready : Ready more

stuck_able : {A : Type 0} (read : Phrase A) (front : List Piece) (pieces : A → List Piece) (ts : List Lexeme) (s : Stopped) → Able front → (stuck : Stuck read front pieces ts s) → Able (pieces stuck.tree)
stuck_able read front pieces ts s able stuck = subst Able (sym stuck.whole) (able_append front (stuck.begun ++ stuck.more) able (able_append stuck.begun stuck.more (reached_able read stuck.begun ts s stuck.reached) stuck.ready.0))

-- What is read is written by its pieces; where reading stops, some tree goes on from there.
pub record Sound {A : Type 0} (pieces : A → List Piece) (read : Phrase A) : Type 0 where
  pub takes : (ts : List Lexeme) (x : A) (rest : List Lexeme) → read ts ≡ Ok (x, rest) → Written (pieces x) ts rest
  pub fails : (ts : List Lexeme) (s : Stopped) → read ts ≡ Err s → Stuck read [] pieces ts s
  pub some : (x : A) × Ready (pieces x)
  pub plain : Plain read

-- What is read is written so, where the first of the pieces were read before.
pub record Goes {A : Type 0} (front : List Piece) (pieces : A → List Piece) (read : Phrase A) : Type 0 where
  pub takes : (ts : List Lexeme) (x : A) (rest : List Lexeme) → read ts ≡ Ok (x, rest) → (back : List Piece) × (pieces x ≡ front ++ back) × Written back ts rest
  pub fails : (ts : List Lexeme) (s : Stopped) → read ts ≡ Err s → Stuck read front pieces ts s
  pub some : (x : A) × (back : List Piece) × (pieces x ≡ front ++ back) × Ready back
  pub plain : Plain read

pub sound_of : {A : Type 0} {pieces : A → List Piece} {read : Phrase A} → Goes [] pieces read → Sound pieces read
sound_of {A} {pieces} {read} goes = record {
  takes = λ ts x rest e. let h = goes.takes ts x rest e in subst (λ (ps : List Piece). Written ps ts rest) (sym h.1) h.2;
  fails = goes.fails;
  some = let n = goes.some in (n.0, subst Ready (sym n.2) n.3);
  plain = goes.plain;
}

-- ---- phrases of phrases

pub nothing_sound : Sound (λ _. []) nothing
nothing_sound = record {
  takes = λ ts x rest e. ap (λ (y : Unit {0} × List Lexeme). y.1) (ok_is (tt, ts) (x, rest) e);
  fails = λ ts s e. absurd cc;
  some = (tt, (tt, refl));
  plain = nothing_plain;
}

-- a phrase that is nowhere, where some tree would go on
pub refuses_sound : {A : Type 0} (pieces : A → List Piece) → (x : A) × Ready (pieces x) → Sound pieces (failing_here {A = A})
refuses_sound {A} pieces some = record {
  takes = λ ts x rest e. absurd cc;
  fails = λ ts s e. record { tree = some.0; begun = []; more = pieces some.0; whole = refl; reached = subst (Reached (failing_here {A = A}) [] ts) (err_is (here ts) s e) refl; ready = some.1 };
  some = some;
  plain = refuses_plain;
}

mapped_stuck : {A B : Type 0} {pA : A → List Piece} {rA : Phrase A} (front : List Piece) (pB : B → List Piece) (f : A → B) → Sound pA rA → ((x : A) → Able (pA x) → pB (f x) ≡ front ++ pA x) → (ts : List Lexeme) (s : Stopped) → mapped f rA ts ≡ Err s → Stuck (mapped f rA) front pB ts s
mapped_stuck {A} {B} {pA} {rA} front pB f sound h ts s e =
    elim (bind_err (rA ts) (λ x. Ok (f x.0, x.1)) s e) [
      | inl d ↦
          let k : Stuck rA [] pA ts s = sound.fails ts s d in
          record { tree = f k.tree; begun = k.begun; more = k.more; whole = h k.tree (stuck_able rA [] pA ts s tt k) ∙ ap (λ (ps : List Piece). front ++ ps) k.whole; reached = reached_first rA (mapped f rA) k.begun ts s (carries_first rA (λ x us. Ok (f x, us)) ts) k.reached; ready = k.ready }
      | inr d ↦ absurd (let c : ⊥ = (let q = d.2 in cc) in c)
    ]

pub mapped_goes : {A B : Type 0} {pA : A → List Piece} {rA : Phrase A} (front : List Piece) (pB : B → List Piece) (f : A → B) → Sound pA rA → ((x : A) → Able (pA x) → pB (f x) ≡ front ++ pA x) → Goes front pB (mapped f rA)
mapped_goes {A} {B} {pA} {rA} front pB f sound h = record {
  takes = λ ts y rest e.
      let a = bind_ok (rA ts) (λ x. Ok (f x.0, x.1)) (y, rest) e in
      let w : Written (pA a.0.0) ts a.0.1 = sound.takes ts a.0.0 a.0.1 a.1 in
      subst (λ (z : B × List Lexeme). (back : List Piece) × (pB z.0 ≡ front ++ back) × Written back ts z.1) (ok_is (f a.0.0, a.0.1) (y, rest) a.2)
      (pA a.0.0, h a.0.0 (written_able (pA a.0.0) ts a.0.1 w), w);
  fails = mapped_stuck front pB f sound h;
  some = (f sound.some.0, pA sound.some.0, h sound.some.0 sound.some.1.0, sound.some.1);
  plain = mapped_plain f rA sound.plain;
}

pub mapped_sound : {A B : Type 0} {pA : A → List Piece} {rA : Phrase A} (pB : B → List Piece) (f : A → B) → Sound pA rA → ((x : A) → Able (pA x) → pB (f x) ≡ pA x) → Sound pB (mapped f rA)
mapped_sound {A} {B} {pA} {rA} pB f sound h = sound_of (mapped_goes [] pB f sound h)

around : (front begun more back : List Piece) → (front ++ (begun ++ more)) ++ back ≡ front ++ (begun ++ (more ++ back))
around front begun more back = simp append_assoc

behind_first : (front first begun more : List Piece) → (front ++ first) ++ (begun ++ more) ≡ front ++ ((first ++ begun) ++ more)
behind_first front first begun more = simp append_assoc

continued_stuck : {A B : Type 0} {pA : A → List Piece} {rA : Phrase A} (front : List Piece) (pB : B → List Piece) (q : A → Phrase B) → Sound pA rA → ((x : A) → Able (pA x) → Goes (front ++ pA x) pB (q x)) → (ts : List Lexeme) (s : Stopped) → continued rA q ts ≡ Err s → Stuck (continued rA q) front pB ts s
continued_stuck {A} {B} {pA} {rA} front pB q sound h ts s e =
    elim (bind_err (rA ts) (λ x. q x.0 x.1) s e) [
      | inl d ↦
          let k : Stuck rA [] pA ts s = sound.fails ts s d in
          let n = (h k.tree (stuck_able rA [] pA ts s tt k)).some in
          record { tree = n.0; begun = k.begun; more = k.more ++ n.1; whole = n.2 ∙ (ap (λ (ps : List Piece). (front ++ ps) ++ n.1) k.whole ∙ around front k.begun k.more n.1); reached = reached_first rA (continued rA q) k.begun ts s (carries_first rA q ts) k.reached; ready = ready_append k.more n.1 k.ready n.3 }
      | inr d ↦
          let w : Written (pA d.0.0) ts d.0.1 = sound.takes ts d.0.0 d.0.1 d.1 in
          let k : Stuck (q d.0.0) (front ++ pA d.0.0) pB d.0.1 s = (h d.0.0 (written_able (pA d.0.0) ts d.0.1 w)).fails d.0.1 s d.2 in
          record { tree = k.tree; begun = pA d.0.0 ++ k.begun; more = k.more; whole = k.whole ∙ behind_first front (pA d.0.0) k.begun k.more; reached = reached_append (q d.0.0) (continued rA q) (pA d.0.0) k.begun ts d.0.1 s w (carries_on rA q sound.plain ts d.0.1 d.0.0 d.1) k.reached; ready = k.ready }
    ]

pub continued_goes : {A B : Type 0} {pA : A → List Piece} {rA : Phrase A} (front : List Piece) (pB : B → List Piece) (q : A → Phrase B) → Sound pA rA → ((x : A) → Able (pA x) → Goes (front ++ pA x) pB (q x)) → Goes front pB (continued rA q)
continued_goes {A} {B} {pA} {rA} front pB q sound h = record {
  takes = λ ts y rest e.
      let a = bind_ok (rA ts) (λ x. q x.0 x.1) (y, rest) e in
      let w : Written (pA a.0.0) ts a.0.1 = sound.takes ts a.0.0 a.0.1 a.1 in
      let b = (h a.0.0 (written_able (pA a.0.0) ts a.0.1 w)).takes a.0.1 y rest a.2 in
      (pA a.0.0 ++ b.0, b.1 ∙ append_assoc front (pA a.0.0) b.0, Written-append (pA a.0.0) b.0 ts a.0.1 rest w b.2);
  fails = continued_stuck front pB q sound h;
  some = let n = (h sound.some.0 sound.some.1.0).some in (n.0, pA sound.some.0 ++ n.1, n.2 ∙ append_assoc front (pA sound.some.0) n.1, ready_append (pA sound.some.0) n.1 sound.some.1 n.3);
  plain = continued_plain rA q sound.plain (λ ts x rest e. (h x (written_able (pA x) ts rest (sound.takes ts x rest e))).plain);
}

pub continued_sound : {A B : Type 0} {pA : A → List Piece} {rA : Phrase A} (pB : B → List Piece) (q : A → Phrase B) → Sound pA rA → ((x : A) → Able (pA x) → Goes (pA x) pB (q x)) → Sound pB (continued rA q)
continued_sound pB q sound h = sound_of (continued_goes [] pB q sound h)

goes_able : {A : Type 0} (front : List Piece) (pA : A → List Piece) (rA : Phrase A) → Able front → Goes front pA rA → (ts : List Lexeme) (x : A) (rest : List Lexeme) → rA ts ≡ Ok (x, rest) → Able (pA x)
goes_able front pA rA able goes ts x rest e =
    let a = goes.takes ts x rest e in
    subst Able (sym a.1) (able_append front a.0 able (written_able a.0 ts rest a.2))

on_stuck : {A B : Type 0} {front : List Piece} {pA : A → List Piece} {rA : Phrase A} (pB : B → List Piece) (q : A → Phrase B) → Able front → Goes front pA rA → ((x : A) → Able (pA x) → Goes (pA x) pB (q x)) → (ts : List Lexeme) (s : Stopped) → continued rA q ts ≡ Err s → Stuck (continued rA q) front pB ts s
on_stuck {A} {B} {front} {pA} {rA} pB q able goes h ts s e =
    elim (bind_err (rA ts) (λ x. q x.0 x.1) s e) [
      | inl d ↦
          let k : Stuck rA front pA ts s = goes.fails ts s d in
          let n = (h k.tree (stuck_able rA front pA ts s able k)).some in
          record { tree = n.0; begun = k.begun; more = k.more ++ n.1; whole = n.2 ∙ (ap (λ (ps : List Piece). ps ++ n.1) k.whole ∙ around front k.begun k.more n.1); reached = reached_first rA (continued rA q) k.begun ts s (carries_first rA q ts) k.reached; ready = ready_append k.more n.1 k.ready n.3 }
      | inr d ↦
          let a = goes.takes ts d.0.0 d.0.1 d.1 in
          let k : Stuck (q d.0.0) (pA d.0.0) pB d.0.1 s = (h d.0.0 (goes_able front pA rA able goes ts d.0.0 d.0.1 d.1)).fails d.0.1 s d.2 in
          record { tree = k.tree; begun = a.0 ++ k.begun; more = k.more; whole = k.whole ∙ (ap (λ (ps : List Piece). ps ++ (k.begun ++ k.more)) a.1 ∙ behind_first front a.0 k.begun k.more); reached = reached_append (q d.0.0) (continued rA q) a.0 k.begun ts d.0.1 s a.2 (carries_on rA q goes.plain ts d.0.1 d.0.0 d.1) k.reached; ready = k.ready }
    ]

-- a phrase of which the first pieces were read before, and what goes on from it
pub goes_on : {A B : Type 0} {front : List Piece} {pA : A → List Piece} {rA : Phrase A} (pB : B → List Piece) (q : A → Phrase B) → Able front → Goes front pA rA → ((x : A) → Able (pA x) → Goes (pA x) pB (q x)) → Goes front pB (continued rA q)
goes_on {A} {B} {front} {pA} {rA} pB q able goes h = record {
  takes = λ ts y rest e.
      let c = bind_ok (rA ts) (λ x. q x.0 x.1) (y, rest) e in
      let a = goes.takes ts c.0.0 c.0.1 c.1 in
      let b = (h c.0.0 (goes_able front pA rA able goes ts c.0.0 c.0.1 c.1)).takes c.0.1 y rest c.2 in
      (a.0 ++ b.0, b.1 ∙ (ap (λ (ps : List Piece). ps ++ b.0) a.1 ∙ append_assoc front a.0 b.0), Written-append a.0 b.0 ts c.0.1 rest a.2 b.2);
  fails = on_stuck pB q able goes h;
  some =
      let a = goes.some in
      let n = (h a.0 (subst Able (sym a.2) (able_append front a.1 able a.3.0))).some in
      (n.0, a.1 ++ n.1, n.2 ∙ (ap (λ (ps : List Piece). ps ++ n.1) a.2 ∙ append_assoc front a.1 n.1), ready_append a.1 n.1 a.3 n.3);
  plain = continued_plain rA q goes.plain (λ ts x rest e. (h x (goes_able front pA rA able goes ts x rest e)).plain);
}

pub both_sound : {A B : Type 0} {pA : A → List Piece} {pB : B → List Piece} {rA : Phrase A} {rB : Phrase B} → Sound pA rA → Sound pB rB → Sound (λ (z : A × B). pA z.0 ++ pB z.1) (both rA rB)
both_sound {A} {B} {pA} {pB} {rA} {rB} a b = continued_sound (λ (z : A × B). pA z.0 ++ pB z.1) (λ x. mapped (λ y. (x, y)) rB) a (λ x able. mapped_goes (pA x) (λ (z : A × B). pA z.0 ++ pB z.1) (λ y. (x, y)) b (λ y able. refl))

stuck_chosen : {A : Type 0} (front : List Piece) (pA : A → List Piece) (test : List Lexeme → Bool) (p q : Phrase A) → Peeks test → (ts : List Lexeme) (s : Stopped) → test ts ≡ true → Stuck p front pA ts s → Stuck (choose test p q) front pA ts s
stuck_chosen front pA test p q peeks ts s h k = record { tree = k.tree; begun = k.begun; more = k.more; whole = k.whole; reached = reached_first p (choose test p q) k.begun ts s (carries_chosen test p q ts peeks h) k.reached; ready = k.ready }

stuck_other : {A : Type 0} (front : List Piece) (pA : A → List Piece) (test : List Lexeme → Bool) (p q : Phrase A) → Peeks test → (ts : List Lexeme) (s : Stopped) → test ts ≡ false → Stuck q front pA ts s → Stuck (choose test p q) front pA ts s
stuck_other front pA test p q peeks ts s h k = record { tree = k.tree; begun = k.begun; more = k.more; whole = k.whole; reached = reached_first q (choose test p q) k.begun ts s (carries_other test p q ts peeks h) k.reached; ready = k.ready }

-- where one of two phrases stops, as the test says which
pub choose_stuck : {A : Type 0} (front : List Piece) (pA : A → List Piece) (test : List Lexeme → Bool) (p q : Phrase A) → Peeks test → (ts : List Lexeme) (s : Stopped) → (test ts ≡ true → p ts ≡ Err s → Stuck p front pA ts s) → (test ts ≡ false → q ts ≡ Err s → Stuck q front pA ts s) → choose test p q ts ≡ Err s → Stuck (choose test p q) front pA ts s
choose_stuck front pA test p q peeks ts s f g e =
    elim (chosen (test ts) (p ts) (q ts) (Err s) e) [
      | inl h ↦ stuck_chosen front pA test p q peeks ts s h.0 (f h.0 h.1)
      | inr h ↦ stuck_other front pA test p q peeks ts s h.0 (g h.0 h.1)
    ]

pub choose_goes : {A : Type 0} (front : List Piece) (pA : A → List Piece) (test : List Lexeme → Bool) (p q : Phrase A) → Peeks test → Goes front pA p → Goes front pA q → Goes front pA (choose test p q)
choose_goes front pA test p q peeks a b = record {
  takes = λ ts x rest e.
      elim (chosen (test ts) (p ts) (q ts) (Ok (x, rest)) e) [
        | inl h ↦ a.takes ts x rest h.1
        | inr h ↦ b.takes ts x rest h.1
      ];
  fails = λ ts s e. choose_stuck front pA test p q peeks ts s (λ h d. a.fails ts s d) (λ h d. b.fails ts s d) e;
  some = a.some;
  plain = choose_plain test p q peeks a.plain b.plain;
}

pub choose_sound : {A : Type 0} (pA : A → List Piece) (test : List Lexeme → Bool) (p q : Phrase A) → Peeks test → Sound pA p → Sound pA q → Sound pA (choose test p q)
choose_sound pA test p q peeks a b = record {
  takes = λ ts x rest e.
      elim (chosen (test ts) (p ts) (q ts) (Ok (x, rest)) e) [
        | inl h ↦ a.takes ts x rest h.1
        | inr h ↦ b.takes ts x rest h.1
      ];
  fails = λ ts s e. choose_stuck [] pA test p q peeks ts s (λ h d. a.fails ts s d) (λ h d. b.fails ts s d) e;
  some = a.some;
  plain = choose_plain test p q peeks a.plain b.plain;
}

pub goes_of : {A : Type 0} {pA : A → List Piece} {rA : Phrase A} (front : List Piece) → Sound pA rA → Goes front (λ x. front ++ pA x) rA
goes_of {A} {pA} {rA} front sound = record {
  takes = λ ts x rest e. (pA x, refl, sound.takes ts x rest e);
  fails = λ ts s e.
      let k : Stuck rA [] pA ts s = sound.fails ts s e in
      record { tree = k.tree; begun = k.begun; more = k.more; whole = ap (λ (ps : List Piece). front ++ ps) k.whole; reached = k.reached; ready = k.ready };
  some = (sound.some.0, pA sound.some.0, refl, sound.some.1);
  plain = sound.plain;
}

seen_stuck : {A : Type 0} {front : List Piece} {pA : A → List Piece} {rA : Phrase A} (pB : A → List Piece) → Able front → Goes front pA rA → ((x : A) → Able (pA x) → pB x ≡ pA x) → (ts : List Lexeme) (s : Stopped) → rA ts ≡ Err s → Stuck rA front pB ts s
seen_stuck {A} {front} {pA} {rA} pB able goes h ts s e =
    let k : Stuck rA front pA ts s = goes.fails ts s e in
    record { tree = k.tree; begun = k.begun; more = k.more; whole = h k.tree (stuck_able rA front pA ts s able k) ∙ k.whole; reached = k.reached; ready = k.ready }

-- the same phrase, where other pieces say as much of what is read
pub goes_as : {A : Type 0} {front : List Piece} {pA : A → List Piece} {rA : Phrase A} (pB : A → List Piece) → Able front → Goes front pA rA → ((x : A) → Able (pA x) → pB x ≡ pA x) → Goes front pB rA
goes_as {A} {front} {pA} {rA} pB able goes h = record {
  takes = λ ts x rest e. let a = goes.takes ts x rest e in (a.0, h x (goes_able front pA rA able goes ts x rest e) ∙ a.1, a.2);
  fails = seen_stuck pB able goes h;
  some = let n = goes.some in (n.0, n.1, h n.0 (subst Able (sym n.2) (able_append front n.1 able n.3.0)) ∙ n.2, n.3);
  plain = goes.plain;
}

pub sound_as : {A : Type 0} {pA : A → List Piece} {rA : Phrase A} (pB : A → List Piece) → Sound pA rA → ((x : A) → Able (pA x) → pB x ≡ pA x) → Sound pB rA
sound_as pB sound h = sound_of (goes_as pB tt (goes_of [] sound) h)

-- ---- lists of phrases

many_sound : {A : Type 0} {pA : A → List Piece} {rA : Phrase A} (goes : List Lexeme → Bool) → Sound pA rA → (n : ℕ) (ts : List Lexeme) (xs : List A) (rest : List Lexeme) → many goes rA n ts ≡ Ok (xs, rest) → Written (flat_map pA xs) ts rest
many_sound {A} {pA} {rA} goes sound zero ts xs rest e = subst (λ (z : List A × List Lexeme). Written (flat_map pA z.0) ts z.1) (ok_is ([], ts) (xs, rest) e) refl
many_sound {A} {pA} {rA} goes sound (suc n) ts xs rest e =
    elim (chosen (goes ts) (rA ts >>= (λ x. many goes rA n x.1 >>= λ ys. Ok (x.0 ∷ ys.0, ys.1))) (Ok ([], ts)) (Ok (xs, rest)) e) [
      | inl h ↦
          let a = bind_ok (rA ts) (λ x. many goes rA n x.1 >>= λ ys. Ok (x.0 ∷ ys.0, ys.1)) (xs, rest) h.1 in
          let b = bind_ok (many goes rA n a.0.1) (λ ys. Ok (a.0.0 ∷ ys.0, ys.1)) (xs, rest) a.2 in
          let w = Written-append (pA a.0.0) (flat_map pA b.0.0) ts a.0.1 b.0.1 (sound.takes ts a.0.0 a.0.1 a.1) (many_sound goes sound n a.0.1 b.0.0 b.0.1 b.1) in
          subst (λ (z : List A × List Lexeme). Written (flat_map pA z.0) ts z.1) (ok_is (a.0.0 ∷ b.0.0, b.0.1) (xs, rest) b.2) (subst (λ (ps : List Piece). Written ps ts b.0.1) (sym (flat_map-cons pA a.0.0 b.0.0)) w)
      | inr h ↦ subst (λ (z : List A × List Lexeme). Written (flat_map pA z.0) ts z.1) (ok_is ([], ts) (xs, rest) h.1) refl
    ]

pub advances : {A : Type 0} {pA : A → List Piece} {rA : Phrase A} → Sound pA rA → ((x : A) → Able (pA x) → is_filled (pA x) ≡ true) → Advances rA
advances {A} {pA} {rA} sound filled ts x rest e =
    let w : Written (pA x) ts rest = sound.takes ts x rest e in
    spelled_shorter (pA x) ts rest (filled x (written_able (pA x) ts rest w)) (written_spelled (pA x) ts rest w)

-- one more, and then all the others
abbrev and_more : {A : Type 0} → (List Lexeme → Bool) → Phrase A → A → Phrase (List A)
and_more goes item x = mapped (λ xs. x ∷ xs) (all_of goes item)

all_err : {A : Type 0} (goes : List Lexeme → Bool) (item : Phrase A) → Advances item → (ts : List Lexeme) (s : Stopped) → goes ts ≡ true → continued item (and_more goes item) ts ≡ Err s → all_of goes item ts ≡ Err s
all_err goes item advances ts s g e = all_unfold goes item advances ts ∙ rw g e

carries_item : {A : Type 0} (goes : List Lexeme → Bool) (item : Phrase A) → Peeks goes → Advances item → (ts : List Lexeme) → goes ts ≡ true → Carries (continued item (and_more goes item)) [] ts (all_of goes item)
carries_item goes item peeks advances ts g t rest e more s d = all_err goes item advances (t ∷ more) s (peeks t more rest ∙ subst (λ (us : List Lexeme). goes us ≡ true) e g) d

all_stuck : {A : Type 0} {pA : A → List Piece} {rA : Phrase A} (goes : List Lexeme → Bool) → Peeks goes → Advances rA → Sound pA rA → (n : ℕ) (ts : List Lexeme) (s : Stopped) → length ts < n → all_of goes rA ts ≡ Err s → Stuck (all_of goes rA) [] (flat_map pA) ts s
all_stuck {A} {pA} {rA} goes peeks advances sound zero ts s less e = absurd (omega arith)
all_stuck {A} {pA} {rA} goes peeks advances sound (suc n) ts s less e =
    elim (chosen (goes ts) (continued rA (and_more goes rA) ts) (Ok ([], ts)) (Err s) (sym (all_unfold goes rA advances ts) ∙ e)) [
      | inl h ↦
          elim (bind_err (rA ts) (λ x. and_more goes rA x.0 x.1) s h.1) [
            | inl d ↦
                let k : Stuck rA [] pA ts s = sound.fails ts s d in
                record {
                  tree = k.tree ∷ [];
                  begun = k.begun;
                  more = k.more;
                  whole = flat_map-cons pA k.tree [] ∙ (append-nil (pA k.tree) ∙ k.whole);
                  reached = reached_first (continued rA (and_more goes rA)) (all_of goes rA) k.begun ts s (carries_item goes rA peeks advances ts h.0)
                      (reached_first rA (continued rA (and_more goes rA)) k.begun ts s (carries_first rA (and_more goes rA) ts) k.reached);
                  ready = k.ready;
                }
            | inr d ↦
                elim (bind_err (all_of goes rA d.0.1) (λ ys. Ok (d.0.0 ∷ ys.0, ys.1)) s d.2) [
                  | inl c ↦
                      let shorter : length d.0.1 < length ts = advances ts d.0.0 d.0.1 d.1 in
                      let k : Stuck (all_of goes rA) [] (flat_map pA) d.0.1 s = all_stuck goes peeks advances sound n d.0.1 s (omega arith) c in
                      let behind : Reached (and_more goes rA d.0.0) k.begun d.0.1 s = reached_first (all_of goes rA) (and_more goes rA d.0.0) k.begun d.0.1 s (carries_first (all_of goes rA) (λ ys us. Ok (d.0.0 ∷ ys, us)) d.0.1) k.reached in
                      record {
                        tree = d.0.0 ∷ k.tree;
                        begun = pA d.0.0 ++ k.begun;
                        more = k.more;
                        whole = flat_map-cons pA d.0.0 k.tree ∙ (ap (λ (ps : List Piece). pA d.0.0 ++ ps) k.whole ∙ sym (append_assoc (pA d.0.0) k.begun k.more));
                        reached = reached_first (continued rA (and_more goes rA)) (all_of goes rA) (pA d.0.0 ++ k.begun) ts s (carries_item goes rA peeks advances ts h.0)
                            (reached_append (and_more goes rA d.0.0) (continued rA (and_more goes rA)) (pA d.0.0) k.begun ts d.0.1 s (sound.takes ts d.0.0 d.0.1 d.1) (carries_on rA (and_more goes rA) sound.plain ts d.0.1 d.0.0 d.1) behind);
                        ready = k.ready;
                      }
                  | inr c ↦ absurd (let w : ⊥ = (let q = c.2 in cc) in w)
                ]
          ]
      | inr h ↦ absurd (let w : ⊥ = (let q = h.1 in cc) in w)
    ]

pub all_sound : {A : Type 0} {pA : A → List Piece} {rA : Phrase A} (goes : List Lexeme → Bool) → Peeks goes → ((x : A) → Able (pA x) → is_filled (pA x) ≡ true) → Sound pA rA → Sound (flat_map pA) (all_of goes rA)
unfolding all_of
all_sound {A} {pA} {rA} goes peeks filled sound = record {
  takes = λ ts xs rest e. many_sound goes sound (suc (length ts)) ts xs rest e;
  fails = λ ts s e. all_stuck goes peeks (advances sound filled) sound (suc (length ts)) ts s (lt-suc_self (length ts)) e;
  some = ([], (tt, refl));
  plain = all_plain goes rA peeks (advances sound filled) sound.plain;
}

-- ---- phrases joined by operators

-- What is joined is written as its parts, one behind the other.
abbrev pub Joins : {A O : Type 0} → (A → List Piece) → (O → List Piece) → (A → List Piece) → (A → O → A → A) → Type 0
Joins {A} {O} pA pO pI join = (x : A) (o : O) (y : A) → Able (pA x) → Able (pO o) → Able (pI y) → pA (join x o y) ≡ pA x ++ (pO o ++ pI y)

joined_able : {A O : Type 0} (pA : A → List Piece) (pO : O → List Piece) (pI : A → List Piece) (join : A → O → A → A) → Joins pA pO pI join → (x : A) (o : O) (y : A) → Able (pA x) → Able (pO o) → Able (pI y) → Able (pA (join x o y))
joined_able pA pO pI join h x o y a b c = subst Able (sym (h x o y a b c)) (able_append (pA x) (pO o ++ pI y) a (able_append (pO o) (pI y) b c))

regroup : (front o y back : List Piece) → (front ++ (o ++ y)) ++ back ≡ front ++ (o ++ (y ++ back))
regroup front o y back = simp append_assoc

joined_more : (z j x o y back : List Piece) → z ≡ j ++ back → j ≡ x ++ (o ++ y) → z ≡ x ++ (o ++ (y ++ back))
joined_more z j x o y back e h = e ∙ (ap (λ (ps : List Piece). ps ++ back) h ∙ regroup x o y back)

joined_takes : {A O : Type 0} {pO : O → List Piece} {pI : A → List Piece} {rO : Phrase O} {rI : Phrase A} (pA : A → List Piece) (goes : List Lexeme → Bool) (join : A → O → A → A) → Sound pO rO → Sound pI rI → Joins pA pO pI join → (n : ℕ) (x : A) → Able (pA x) → (ts : List Lexeme) (z : A) (rest : List Lexeme) → joined goes rO rI join n x ts ≡ Ok (z, rest) → (back : List Piece) × (pA z ≡ pA x ++ back) × Written back ts rest
joined_takes {A} {O} {pO} {pI} {rO} {rI} pA goes join f g h zero x able ts z rest e = subst (λ (w : A × List Lexeme). (back : List Piece) × (pA w.0 ≡ pA x ++ back) × Written back ts w.1) (ok_is (x, ts) (z, rest) e) ([], sym (append-nil (pA x)), refl)
joined_takes {A} {O} {pO} {pI} {rO} {rI} pA goes join f g h (suc n) x able ts z rest e =
    elim (chosen (goes ts) (rO ts >>= (λ o. rI o.1 >>= λ y. joined goes rO rI join n (join x o.0 y.0) y.1)) (Ok (x, ts)) (Ok (z, rest)) e) [
      | inl d ↦
          let a = bind_ok (rO ts) (λ o. rI o.1 >>= λ y. joined goes rO rI join n (join x o.0 y.0) y.1) (z, rest) d.1 in
          let b = bind_ok (rI a.0.1) (λ y. joined goes rO rI join n (join x a.0.0 y.0) y.1) (z, rest) a.2 in
          let v : Written (pO a.0.0) ts a.0.1 = f.takes ts a.0.0 a.0.1 a.1 in
          let w : Written (pI b.0.0) a.0.1 b.0.1 = g.takes a.0.1 b.0.0 b.0.1 b.1 in
          let able_o : Able (pO a.0.0) = written_able (pO a.0.0) ts a.0.1 v in
          let able_y : Able (pI b.0.0) = written_able (pI b.0.0) a.0.1 b.0.1 w in
          let c = joined_takes pA goes join f g h n (join x a.0.0 b.0.0) (joined_able pA pO pI join h x a.0.0 b.0.0 able able_o able_y) b.0.1 z rest b.2 in (
            pO a.0.0 ++ (pI b.0.0 ++ c.0),
            joined_more (pA z) (pA (join x a.0.0 b.0.0)) (pA x) (pO a.0.0) (pI b.0.0) c.0 c.1 (h x a.0.0 b.0.0 able able_o able_y),
            Written-append (pO a.0.0) (pI b.0.0 ++ c.0) ts a.0.1 rest v (Written-append (pI b.0.0) c.0 a.0.1 b.0.1 rest w c.2),
          )
      | inr d ↦ subst (λ (w : A × List Lexeme). (back : List Piece) × (pA w.0 ≡ pA x ++ back) × Written back ts w.1) (ok_is (x, ts) (z, rest) d.1) ([], sym (append-nil (pA x)), refl)
    ]

operator_stuck : (z x o begun more y : List Piece) → z ≡ x ++ (o ++ y) → o ≡ begun ++ more → z ≡ x ++ (begun ++ (more ++ y))
operator_stuck z x o begun more y e h = e ∙ (ap (λ (ps : List Piece). x ++ (ps ++ y)) h ∙ simp append_assoc)

item_stuck : (z x o y begun more : List Piece) → z ≡ x ++ (o ++ y) → y ≡ begun ++ more → z ≡ x ++ ((o ++ begun) ++ more)
item_stuck z x o y begun more e h = e ∙ (ap (λ (ps : List Piece). x ++ (o ++ ps)) h ∙ simp append_assoc)

later_stuck : (z j x o y begun more : List Piece) → z ≡ j ++ (begun ++ more) → j ≡ x ++ (o ++ y) → z ≡ x ++ ((o ++ (y ++ begun)) ++ more)
later_stuck z j x o y begun more e h = e ∙ (ap (λ (ps : List Piece). ps ++ (begun ++ more)) h ∙ simp append_assoc)

-- an item behind the operator, and what stands behind it
abbrev item_on : {A O : Type 0} → (List Lexeme → Bool) → Phrase O → Phrase A → (A → O → A → A) → A → O → Phrase A
item_on goes operator item join x o = continued item (λ y. chain goes operator item join (join x o y))

chain_err : {A O : Type 0} (goes : List Lexeme → Bool) (operator : Phrase O) (item : Phrase A) (join : A → O → A → A) → Advances operator → Plain item → (x : A) (ts : List Lexeme) (s : Stopped) → goes ts ≡ true → continued operator (item_on goes operator item join x) ts ≡ Err s → chain goes operator item join x ts ≡ Err s
chain_err goes operator item join advances plain x ts s g e = chain_unfold goes operator item join advances plain x ts ∙ rw g e

carries_joined : {A O : Type 0} (goes : List Lexeme → Bool) (operator : Phrase O) (item : Phrase A) (join : A → O → A → A) → Peeks goes → Advances operator → Plain item → (x : A) (ts : List Lexeme) → goes ts ≡ true → Carries (continued operator (item_on goes operator item join x)) [] ts (chain goes operator item join x)
carries_joined goes operator item join peeks advances plain x ts g t rest e more s d = chain_err goes operator item join advances plain x (t ∷ more) s (peeks t more rest ∙ subst (λ (us : List Lexeme). goes us ≡ true) e g) d

chain_stuck : {A O : Type 0} {pO : O → List Piece} {pI : A → List Piece} {rO : Phrase O} {rI : Phrase A} (pA : A → List Piece) (goes : List Lexeme → Bool) (join : A → O → A → A) → Peeks goes → Advances rO → Sound pO rO → Sound pI rI → Joins pA pO pI join → (n : ℕ) (x : A) → Able (pA x) → (ts : List Lexeme) (s : Stopped) → length ts < n → chain goes rO rI join x ts ≡ Err s → Stuck (chain goes rO rI join x) (pA x) pA ts s
chain_stuck {A} {O} {pO} {pI} {rO} {rI} pA goes join peeks advances f g h zero x able ts s less e = absurd (omega arith)
chain_stuck {A} {O} {pO} {pI} {rO} {rI} pA goes join peeks advances f g h (suc n) x able ts s less e =
    let q : O → Phrase A = item_on goes rO rI join x in
    elim (chosen (goes ts) (continued rO q ts) (Ok (x, ts)) (Err s) (sym (chain_unfold goes rO rI join advances g.plain x ts) ∙ e)) [
      | inl d ↦
          let on : Carries (continued rO q) [] ts (chain goes rO rI join x) = carries_joined goes rO rI join peeks advances g.plain x ts d.0 in
          elim (bind_err (rO ts) (λ o. q o.0 o.1) s d.1) [
            | inl c ↦
                let k : Stuck rO [] pO ts s = f.fails ts s c in
                let y = g.some in
                record {
                  tree = join x k.tree y.0;
                  begun = k.begun;
                  more = k.more ++ pI y.0;
                  whole = operator_stuck (pA (join x k.tree y.0)) (pA x) (pO k.tree) k.begun k.more (pI y.0) (h x k.tree y.0 able (stuck_able rO [] pO ts s tt k) y.1.0) k.whole;
                  reached = reached_first (continued rO q) (chain goes rO rI join x) k.begun ts s on (reached_first rO (continued rO q) k.begun ts s (carries_first rO q ts) k.reached);
                  ready = ready_append k.more (pI y.0) k.ready y.1;
                }
            | inr c ↦
                let v : Written (pO c.0.0) ts c.0.1 = f.takes ts c.0.0 c.0.1 c.1 in
                let able_o : Able (pO c.0.0) = written_able (pO c.0.0) ts c.0.1 v in
                let r : A → Phrase A = λ y. chain goes rO rI join (join x c.0.0 y) in
                elim (bind_err (rI c.0.1) (λ y. r y.0 y.1) s c.2) [
                  | inl b ↦
                      let k : Stuck rI [] pI c.0.1 s = g.fails c.0.1 s b in
                      record {
                        tree = join x c.0.0 k.tree;
                        begun = pO c.0.0 ++ k.begun;
                        more = k.more;
                        whole = item_stuck (pA (join x c.0.0 k.tree)) (pA x) (pO c.0.0) (pI k.tree) k.begun k.more (h x c.0.0 k.tree able able_o (stuck_able rI [] pI c.0.1 s tt k)) k.whole;
                        reached = reached_first (continued rO q) (chain goes rO rI join x) (pO c.0.0 ++ k.begun) ts s on
                            (reached_append (q c.0.0) (continued rO q) (pO c.0.0) k.begun ts c.0.1 s v (carries_on rO q f.plain ts c.0.1 c.0.0 c.1)
                            (reached_first rI (q c.0.0) k.begun c.0.1 s (carries_first rI r c.0.1) k.reached));
                        ready = k.ready;
                      }
                  | inr b ↦
                      let w : Written (pI b.0.0) c.0.1 b.0.1 = g.takes c.0.1 b.0.0 b.0.1 b.1 in
                      let able_y : Able (pI b.0.0) = written_able (pI b.0.0) c.0.1 b.0.1 w in
                      let shorter : length b.0.1 < length ts = rest_shorter rO rI advances g.plain ts c.0.1 b.0.1 c.0.0 b.0.0 c.1 b.1 in
                      let k : Stuck (r b.0.0) (pA (join x c.0.0 b.0.0)) pA b.0.1 s = chain_stuck pA goes join peeks advances f g h n (join x c.0.0 b.0.0) (joined_able pA pO pI join h x c.0.0 b.0.0 able able_o able_y) b.0.1 s (omega arith) b.2 in
                      record {
                        tree = k.tree;
                        begun = pO c.0.0 ++ (pI b.0.0 ++ k.begun);
                        more = k.more;
                        whole = later_stuck (pA k.tree) (pA (join x c.0.0 b.0.0)) (pA x) (pO c.0.0) (pI b.0.0) k.begun k.more k.whole (h x c.0.0 b.0.0 able able_o able_y);
                        reached = reached_first (continued rO q) (chain goes rO rI join x) (pO c.0.0 ++ (pI b.0.0 ++ k.begun)) ts s on
                            (reached_append (q c.0.0) (continued rO q) (pO c.0.0) (pI b.0.0 ++ k.begun) ts c.0.1 s v (carries_on rO q f.plain ts c.0.1 c.0.0 c.1)
                            (reached_append (r b.0.0) (q c.0.0) (pI b.0.0) k.begun c.0.1 b.0.1 s w (carries_on rI r g.plain c.0.1 b.0.1 b.0.0 b.1) k.reached));
                        ready = k.ready;
                      }
                ]
          ]
      | inr d ↦ absurd (let w : ⊥ = (let q = d.1 in cc) in w)
    ]

-- what stands behind the first of the phrases that operators join
pub chain_goes : {A O : Type 0} {pO : O → List Piece} {pI : A → List Piece} {rO : Phrase O} {rI : Phrase A} (pA : A → List Piece) (goes : List Lexeme → Bool) (join : A → O → A → A) → Peeks goes → ((o : O) → Able (pO o) → is_filled (pO o) ≡ true) → Sound pO rO → Sound pI rI → Joins pA pO pI join → (x : A) → Able (pA x) → Goes (pA x) pA (chain goes rO rI join x)
unfolding chain
chain_goes {A} {O} {pO} {pI} {rO} {rI} pA goes join peeks filled f g h x able = record {
  takes = λ ts z rest e. joined_takes pA goes join f g h (suc (length ts)) x able ts z rest e;
  fails = λ ts s e. chain_stuck pA goes join peeks (advances f filled) f g h (suc (length ts)) x able ts s (lt-suc_self (length ts)) e;
  some = (x, [], sym (append-nil (pA x)), (tt, refl));
  plain = chain_plain goes rO rI join peeks (advances f filled) f.plain g.plain x;
}

-- ---- one token

pub kind_is : (k l : Kind) → is_kind k l ≡ true → l ≡ k
kind_is (reserved w) (reserved v) e = ap reserved (same_true words tt v w e)
kind_is (delimiter d) (delimiter f) e = ap delimiter (same_true delimiters tt f d e)
kind_is (reserved w) (identifier a) e = absurd cc
kind_is (reserved w) (number a) e = absurd cc
kind_is (reserved w) (string a) e = absurd cc
kind_is (reserved w) (delimiter a) e = absurd cc
kind_is (delimiter w) (identifier a) e = absurd cc
kind_is (delimiter w) (number a) e = absurd cc
kind_is (delimiter w) (string a) e = absurd cc
kind_is (delimiter w) (reserved a) e = absurd cc
kind_is (identifier w) l e = absurd cc
kind_is (number w) l e = absurd cc
kind_is (string w) l e = absurd cc

pub fixed_takes : (k : Kind) (ts : List Lexeme) (x : Spot) (rest : List Lexeme) → fixed k ts ≡ Ok (x, rest) → Written (placed k x ∷ []) ts rest
unfolding fixed
fixed_takes k [] x rest e = absurd cc
fixed_takes k (t ∷ ts) x rest e =
    elim (chosen (is_kind k t.kind) (Ok (spot_of t, ts)) (Err (here (t ∷ ts))) (Ok (x, rest)) e) [
      | inl h ↦ subst (λ (z : Spot × List Lexeme). Written (placed k z.0 ∷ []) (t ∷ ts) z.1) (ok_is (spot_of t, ts) (x, rest) h.1) ((kind_is k t.kind h.0, refl, refl), refl)
      | inr h ↦ absurd (let d : ⊥ = (let q = h.1 in cc) in d)
    ]

left_at_once : {A : Type 0} (pieces : A → List Piece) (read : Phrase A) (x : A) (ts : List Lexeme) (s : Stopped) → Ready (pieces x) → here ts ≡ s → Stuck read [] pieces ts s
left_at_once pieces read x ts s ready e = record { tree = x; begun = []; more = pieces x; whole = refl; reached = subst (Reached read [] ts) e refl; ready = ready }

token_left : {A : Type 0} (pieces : A → List Piece) (read whole : Phrase A) (x : A) (t : Lexeme) (ts : List Lexeme) (s : Stopped) → Ready (pieces x) → OneToken read t → read (t ∷ ts) ≡ Err s → Stuck whole [] pieces (t ∷ ts) s
token_left pieces read whole x t ts s ready (taken y h) e = absurd (let c : ⊥ = (let q = sym (h ts) ∙ e in cc) in c)
token_left pieces read whole x t ts s ready (refused h) e = left_at_once pieces whole x (t ∷ ts) s ready (err_is (here (t ∷ ts)) s (sym (h ts) ∙ e))

-- a reader of one token leaves all where it fails
pub single_left : {A : Type 0} (pieces : A → List Piece) (read whole : Phrase A) (x : A) → Ready (pieces x) → Single read → (ts : List Lexeme) (s : Stopped) → read ts ≡ Err s → Stuck whole [] pieces ts s
single_left pieces read whole x ready single [] s e = left_at_once pieces whole x [] s ready (err_is (here []) s (sym single.at_end ∙ e))
single_left pieces read whole x ready single (t ∷ ts) s e = token_left pieces read whole x t ts s ready (single.at_token t) e

-- a spot, whichever
abbrev pub some_spot : Spot
some_spot = record { line = 1; column = 1 }

-- a word or delimiter other than `new`
abbrev pub IsOther : Kind → Type 0
IsOther k = is_kind (reserved New) k ≡ false

pub placed_sound : (k : Kind) → IsOther k → Sound (λ x. placed k x ∷ []) (fixed k)
placed_sound k other = record { takes = fixed_takes k; fails = single_left (λ x. placed k x ∷ []) (fixed k) (fixed k) some_spot ((tt, tt), other) (fixed_single k); some = (some_spot, ((tt, tt), other)); plain = single_plain (fixed k) (fixed_single k) }

pub unplaced : (k : Kind) (x : Spot) (ts rest : List Lexeme) → Written (placed k x ∷ []) ts rest → Written (anywhere k ∷ []) ts rest
unplaced k x [] rest w = absurd w
unplaced k x (t ∷ ts) rest w = (w.0.0, w.1)

pub fixed_sound : (k : Kind) → IsOther k → Sound (λ _. anywhere k ∷ []) (fixed k)
fixed_sound k other = record {
  takes = λ ts x rest e. unplaced k x ts rest (fixed_takes k ts x rest e);
  fails = single_left (λ _. anywhere k ∷ []) (fixed k) (fixed k) some_spot ((tt, tt), other) (fixed_single k);
  some = (some_spot, ((tt, tt), other));
  plain = single_plain (fixed k) (fixed_single k);
}

pub after_goes : {A : Type 0} (front : List Piece) (pA : A → List Piece) (k : Kind) (rA : Phrase A) → IsOther k → Goes (front ++ anywhere k ∷ []) pA rA → Goes front pA (after k rA)
after_goes front pA k rA other goes = continued_goes front pA (λ _. rA) (fixed_sound k other) (λ _ able. goes)

pub after_sound : {A : Type 0} {pA : A → List Piece} {rA : Phrase A} (k : Kind) → IsOther k → Sound pA rA → Sound (λ x. anywhere k ∷ pA x) (after k rA)
after_sound {A} {pA} {rA} k other sound = continued_sound (λ x. anywhere k ∷ pA x) (λ _. rA) (fixed_sound k other) (λ _ able. goes_of (anywhere k ∷ []) sound)

identifier_takes : (k : Kind) (t : Lexeme) (ts : List Lexeme) (x : Ident) (rest : List Lexeme) → t.kind ≡ k → identifier_from k t ts ≡ Ok (x, rest) → Written (ident_pieces x) (t ∷ ts) rest
identifier_takes (identifier text) t ts x rest k e = subst (λ (z : Ident × List Lexeme). Written (ident_pieces z.0) (t ∷ ts) z.1) (ok_is (record { text = text; spot = spot_of t }, ts) (x, rest) e) ((k, refl, refl), refl)
identifier_takes (number n) t ts x rest k e = absurd cc
identifier_takes (string n) t ts x rest k e = absurd cc
identifier_takes (reserved n) t ts x rest k e = absurd cc
identifier_takes (delimiter n) t ts x rest k e = absurd cc

identifier_reads : (ts : List Lexeme) (x : Ident) (rest : List Lexeme) → identifier_at ts ≡ Ok (x, rest) → Written (ident_pieces x) ts rest
unfolding identifier_at
identifier_reads [] x rest e = absurd cc
identifier_reads (t ∷ ts) x rest e = identifier_takes t.kind t ts x rest refl e

-- an identifier, whichever
abbrev pub some_ident : Ident
some_ident = record { text = []; spot = some_spot }

pub identifier_sound : Sound ident_pieces identifier_at
identifier_sound = record {
  takes = identifier_reads;
  fails = single_left ident_pieces identifier_at identifier_at some_ident ((tt, tt), refl) identifier_single;
  some = (some_ident, ((tt, tt), refl));
  plain = single_plain identifier_at identifier_single;
}

number_takes : (k : Kind) (t : Lexeme) (ts : List Lexeme) (x : ℕ × Spot) (rest : List Lexeme) → t.kind ≡ k → number_from k t ts ≡ Ok (x, rest) → Written (placed (number x.0) x.1 ∷ []) (t ∷ ts) rest
number_takes (number n) t ts x rest k e = subst (λ (z : (ℕ × Spot) × List Lexeme). Written (placed (number z.0.0) z.0.1 ∷ []) (t ∷ ts) z.1) (ok_is ((n, spot_of t), ts) (x, rest) e) ((k, refl, refl), refl)
number_takes (identifier n) t ts x rest k e = absurd cc
number_takes (string n) t ts x rest k e = absurd cc
number_takes (reserved n) t ts x rest k e = absurd cc
number_takes (delimiter n) t ts x rest k e = absurd cc

number_reads : (ts : List Lexeme) (x : ℕ × Spot) (rest : List Lexeme) → number_at ts ≡ Ok (x, rest) → Written (placed (number x.0) x.1 ∷ []) ts rest
unfolding number_at
number_reads [] x rest e = absurd cc
number_reads (t ∷ ts) x rest e = number_takes t.kind t ts x rest refl e

pub number_sound : Sound (λ (x : ℕ × Spot). placed (number x.0) x.1 ∷ []) number_at
number_sound = record {
  takes = number_reads;
  fails = single_left (λ (x : ℕ × Spot). placed (number x.0) x.1 ∷ []) number_at number_at (0, some_spot) ((tt, tt), refl) number_single;
  some = ((0, some_spot), ((tt, tt), refl));
  plain = single_plain number_at number_single;
}

string_takes : (k : Kind) (t : Lexeme) (ts : List Lexeme) (x : List ℕ × Spot) (rest : List Lexeme) → t.kind ≡ k → string_from k t ts ≡ Ok (x, rest) → Written (placed (string x.0) x.1 ∷ []) (t ∷ ts) rest
string_takes (string n) t ts x rest k e = subst (λ (z : (List ℕ × Spot) × List Lexeme). Written (placed (string z.0.0) z.0.1 ∷ []) (t ∷ ts) z.1) (ok_is ((n, spot_of t), ts) (x, rest) e) ((k, refl, refl), refl)
string_takes (identifier n) t ts x rest k e = absurd cc
string_takes (number n) t ts x rest k e = absurd cc
string_takes (reserved n) t ts x rest k e = absurd cc
string_takes (delimiter n) t ts x rest k e = absurd cc

string_reads : (ts : List Lexeme) (x : List ℕ × Spot) (rest : List Lexeme) → string_at ts ≡ Ok (x, rest) → Written (placed (string x.0) x.1 ∷ []) ts rest
unfolding string_at
string_reads [] x rest e = absurd cc
string_reads (t ∷ ts) x rest e = string_takes t.kind t ts x rest refl e

pub string_sound : Sound (λ (x : List ℕ × Spot). placed (string x.0) x.1 ∷ []) string_at
string_sound = record {
  takes = string_reads;
  fails = single_left (λ (x : List ℕ × Spot). placed (string x.0) x.1 ∷ []) string_at string_at ([], some_spot) ((tt, tt), refl) string_single;
  some = (([], some_spot), ((tt, tt), refl));
  plain = single_plain string_at string_single;
}

-- the value of a number of which the tree keeps no spot
pub number_anywhere : Sound (λ (x : ℕ × Spot). anywhere (number x.0) ∷ []) number_at
number_anywhere = record {
  takes = λ ts x rest e. unplaced (number x.0) x.1 ts rest (number_reads ts x rest e);
  fails = single_left (λ (x : ℕ × Spot). anywhere (number x.0) ∷ []) number_at number_at (0, some_spot) ((tt, tt), refl) number_single;
  some = ((0, some_spot), ((tt, tt), refl));
  plain = single_plain number_at number_single;
}

-- ---- nesting

opening_ready : (room : ℕ) (k : Kind) (spot : Spot) → IsOther k → Ready (opening_at room k spot ∷ [])
opening_ready zero k spot other = ((tt, tt), other)
opening_ready (suc room) k spot other = ((tt, tt), other)

allowed_takes : (room : ℕ) (k : Kind) (y : Spot × List Lexeme) (ts : List Lexeme) (x : Spot) (rest : List Lexeme) → Written (placed k y.0 ∷ []) ts y.1 → allowed room y ≡ Ok (x, rest) → Written (opening_at room k x ∷ []) ts rest
allowed_takes zero k y ts x rest w e = absurd cc
allowed_takes (suc room) k y ts x rest w e = subst (λ (z : Spot × List Lexeme). Written (placed k z.0 ∷ []) ts z.1) (ok_is y (x, rest) e) w

pub spot_is : (t : Lexeme) (spot : Spot) → t.line ≡ spot.line → t.column ≡ spot.column → spot_of t ≡ spot
spot_is t spot e f = let g : spot_of t ≡ record { line = spot.line; column = spot.column } = rw (e, f) refl in g

-- an opening token that is there is too deep, whatever stands behind it
opening_sinks : (k : Kind) (t : Lexeme) (rest : List Lexeme) (y : Spot × List Lexeme) → OneToken (fixed k) t → fixed k (t ∷ rest) ≡ Ok y → (more : List Lexeme) → opening_in zero k (t ∷ more) ≡ Err (too_deep y.0)
opening_sinks k t rest y (taken x h) e more =
    let same : x ≡ y.0 = ap (λ (z : Spot × List Lexeme). z.0) (ok_is (x, rest) y (sym (h rest) ∙ e)) in
    rw (h more) (ap (λ z. Err (too_deep z)) same)
opening_sinks k t rest y (refused h) e more = absurd (let c : ⊥ = (let q = sym (h rest) ∙ e in cc) in c)

sunk_token : (k : Kind) (y : Spot × List Lexeme) (ts : List Lexeme) (s : Stopped) → fixed k ts ≡ Ok y → Written (placed k y.0 ∷ []) ts y.1 → too_deep y.0 ≡ s → Stuck (opening_in zero k) [] (λ x. opening_at zero k x ∷ []) ts s
sunk_token k y [] s f w e = absurd w
sunk_token k y (t ∷ ts) s f w e = record {
  tree = y.0;
  begun = deep k ∷ [];
  more = [];
  whole = refl;
  reached = subst (Reached (opening_in zero k) (deep k ∷ []) (t ∷ ts)) e
      (record { shallow = []; kind = k; behind = []; whole = refl; before = []; token = t; shown = []; left = ts; split = refl; written = refl; is_so = w.0.0; stands = spot_is t y.0 w.0.1 w.0.2; spelled = refl; tells = settled (λ more g. opening_sinks k t ts y ((fixed_single k).at_token t) f more) });
  ready = (tt, refl);
}

allowed_stuck : (room : ℕ) (k : Kind) (y : Spot × List Lexeme) (ts : List Lexeme) (s : Stopped) → fixed k ts ≡ Ok y → Written (placed k y.0 ∷ []) ts y.1 → allowed room y ≡ Err s → Stuck (opening_in room k) [] (λ x. opening_at room k x ∷ []) ts s
allowed_stuck zero k y ts s f w e = sunk_token k y ts s f w (err_is (too_deep y.0) s e)
allowed_stuck (suc room) k y ts s f w e = absurd cc

opening_stuck : (room : ℕ) (k : Kind) → IsOther k → (ts : List Lexeme) (s : Stopped) → opening_in room k ts ≡ Err s → Stuck (opening_in room k) [] (λ x. opening_at room k x ∷ []) ts s
opening_stuck room k other ts s e =
    elim (bind_err (fixed k ts) (allowed room) s e) [
      | inl d ↦ single_left (λ x. opening_at room k x ∷ []) (fixed k) (opening_in room k) some_spot (opening_ready room k some_spot other) (fixed_single k) ts s d
      | inr d ↦ allowed_stuck room k d.0 ts s d.1 (fixed_takes k ts d.0.0 d.0.1 d.1) d.2
    ]

-- an opening token of which the tree keeps the spot
pub opening_sound : (room : ℕ) (k : Kind) → IsOther k → Sound (λ x. opening_at room k x ∷ []) (opening_in room k)
opening_sound room k other = record {
  takes = λ ts x rest e.
      let a = bind_ok (fixed k ts) (allowed room) (x, rest) e in
      allowed_takes room k a.0 ts x rest (fixed_takes k ts a.0.0 a.0.1 a.1) a.2;
  fails = opening_stuck room k other;
  some = (some_spot, opening_ready room k some_spot other);
  plain = opening_plain room k;
}

-- an opening token
pub opening_somewhere : (room : ℕ) (k : Kind) → IsOther k → Sound (λ _. opening room k ∷ []) (opening_in room k)
opening_somewhere zero k other = opening_sound zero k other
opening_somewhere (suc room) k other = record {
  takes = λ ts x rest e. unplaced k x ts rest ((opening_sound (suc room) k other).takes ts x rest e);
  fails = λ ts s e.
      elim (bind_err (fixed k ts) (allowed (suc room)) s e) [
        | inl d ↦ single_left (λ _. anywhere k ∷ []) (fixed k) (opening_in (suc room) k) some_spot ((tt, tt), other) (fixed_single k) ts s d
        | inr d ↦ absurd (let c : ⊥ = (let q = d.2 in cc) in c)
      ];
  some = (some_spot, ((tt, tt), other));
  plain = opening_plain (suc room) k;
}

pub opened_sound : {A : Type 0} {pA : A → List Piece} {rA : Phrase A} (room : ℕ) (k : Kind) → IsOther k → Sound pA rA → Sound (λ x. opening room k ∷ pA x) (opened room k rA)
opened_sound {A} {pA} {rA} room k other sound = continued_sound (λ x. opening room k ∷ pA x) (λ _. rA) (opening_somewhere room k other) (λ _ able. goes_of (opening room k ∷ []) sound)

-- ---- phrases of which the first pieces were read before

pub goes_front : {A : Type 0} {first front : List Piece} {pA : A → List Piece} {rA : Phrase A} → Goes first pA rA → first ≡ front → Goes front pA rA
goes_front {A} {first} {front} {pA} {rA} goes e = subst (λ (ps : List Piece). Goes ps pA rA) e goes

-- nothing more
pub done_goes : {A : Type 0} (front : List Piece) (pA : A → List Piece) (x : A) → pA x ≡ front → Goes front pA (λ ts. Ok (x, ts))
done_goes {A} front pA x e = record {
  takes = λ ts y rest d. subst (λ (z : A × List Lexeme). (back : List Piece) × (pA z.0 ≡ front ++ back) × Written back ts z.1) (ok_is (x, ts) (y, rest) d) ([], e ∙ sym (append-nil front), refl);
  fails = λ ts s d. absurd cc;
  some = (x, [], e ∙ sym (append-nil front), (tt, refl));
  plain = mapped_plain (λ _. x) nothing nothing_plain;
}

pub goes_mapped : {A B : Type 0} {front : List Piece} {pA : A → List Piece} {rA : Phrase A} (pB : B → List Piece) (f : A → B) → Able front → Goes front pA rA → ((x : A) → Able (pA x) → pB (f x) ≡ pA x) → Goes front pB (mapped f rA)
goes_mapped {A} {B} {front} {pA} {rA} pB f able goes h = goes_on pB (λ x ts. Ok (f x, ts)) able goes (λ x able_x. done_goes (pA x) pB (f x) (h x able_x))

-- ---- phrases that begin with `new`

-- What stands behind a front that was read, where `new` is next: reading never stops at that word.
pub record Anew {A : Type 0} (front : List Piece) (pieces : A → List Piece) (read : Phrase A) : Type 0 where
  pub takes : (ts : List Lexeme) (x : A) (rest : List Lexeme) → read ts ≡ Ok (x, rest) → (back : List Piece) × (pieces x ≡ front ++ back) × Written back ts rest
  pub fails : (ts : List Lexeme) (s : Stopped) → at (reserved New) ts ≡ true → read ts ≡ Err s → Stuck read front pieces ts s
  pub plain : Plain read

is_there : (k : Kind) (ts : List Lexeme) (s : Stopped) → at k ts ≡ true → fixed k ts ≡ Err s → ⊥
unfolding fixed
is_there k [] s h e = cc
is_there k (t ∷ ts) s h e = let f : fixed k (t ∷ ts) ≡ done (spot_of t, ts) = rw h refl in (let c : ⊥ = (let q = sym f ∙ e in cc) in c)

anew_stuck : {A : Type 0} (front : List Piece) (pA : A → List Piece) (piece : Spot → Piece) (q : Spot → Phrase A) → ((x : Spot) (ts rest : List Lexeme) → Written (placed (reserved New) x ∷ []) ts rest → Written (piece x ∷ []) ts rest) → ((x : Spot) → Goes (front ++ piece x ∷ []) pA (q x)) → (ts : List Lexeme) (s : Stopped) → at (reserved New) ts ≡ true → continued (fixed (reserved New)) q ts ≡ Err s → Stuck (continued (fixed (reserved New)) q) front pA ts s
anew_stuck front pA piece q seen goes ts s h e =
    elim (bind_err (fixed (reserved New) ts) (λ x. q x.0 x.1) s e) [
      | inl d ↦ absurd (is_there (reserved New) ts s h d)
      | inr d ↦
          let w : Written (piece d.0.0 ∷ []) ts d.0.1 = seen d.0.0 ts d.0.1 (fixed_takes (reserved New) ts d.0.0 d.0.1 d.1) in
          let k : Stuck (q d.0.0) (front ++ piece d.0.0 ∷ []) pA d.0.1 s = (goes d.0.0).fails d.0.1 s d.2 in
          record { tree = k.tree; begun = piece d.0.0 ∷ k.begun; more = k.more; whole = k.whole ∙ append_assoc front (piece d.0.0 ∷ []) (k.begun ++ k.more); reached = reached_append (q d.0.0) (continued (fixed (reserved New)) q) (piece d.0.0 ∷ []) k.begun ts d.0.1 s w (carries_on (fixed (reserved New)) q (single_plain (fixed (reserved New)) (fixed_single (reserved New))) ts d.0.1 d.0.0 d.1) k.reached; ready = k.ready }
    ]

-- `new`, of which the tree keeps the spot or not, and then a phrase
anew_continued : {A : Type 0} (front : List Piece) (pA : A → List Piece) (piece : Spot → Piece) (q : Spot → Phrase A) → ((x : Spot) (ts rest : List Lexeme) → Written (placed (reserved New) x ∷ []) ts rest → Written (piece x ∷ []) ts rest) → ((x : Spot) → Goes (front ++ piece x ∷ []) pA (q x)) → Anew front pA (continued (fixed (reserved New)) q)
anew_continued front pA piece q seen goes = record {
  takes = λ ts y rest e.
      let a = bind_ok (fixed (reserved New) ts) (λ x. q x.0 x.1) (y, rest) e in
      let w : Written (piece a.0.0 ∷ []) ts a.0.1 = seen a.0.0 ts a.0.1 (fixed_takes (reserved New) ts a.0.0 a.0.1 a.1) in
      let b = (goes a.0.0).takes a.0.1 y rest a.2 in
      (piece a.0.0 ∷ b.0, b.1 ∙ append_assoc front (piece a.0.0 ∷ []) b.0, Written-append (piece a.0.0 ∷ []) b.0 ts a.0.1 rest w b.2);
  fails = anew_stuck front pA piece q seen goes;
  plain = continued_plain (fixed (reserved New)) q (single_plain (fixed (reserved New)) (fixed_single (reserved New))) (λ ts x rest e. (goes x).plain);
}

pub anew_after : {A : Type 0} (front : List Piece) (pA : A → List Piece) (rA : Phrase A) → Goes (front ++ anywhere (reserved New) ∷ []) pA rA → Anew front pA (after (reserved New) rA)
anew_after front pA rA goes = anew_continued front pA (λ _. anywhere (reserved New)) (λ _. rA) (unplaced (reserved New)) (λ _. goes)

pub anew_both : {B : Type 0} {pB : B → List Piece} {rB : Phrase B} → Sound pB rB → Anew [] (λ (z : Spot × B). placed (reserved New) z.0 ∷ pB z.1) (both (fixed (reserved New)) rB)
anew_both {B} {pB} {rB} sound = anew_continued [] (λ (z : Spot × B). placed (reserved New) z.0 ∷ pB z.1) (placed (reserved New)) (λ x. mapped (λ y. (x, y)) rB) (λ x ts rest w. w)
    (λ x. mapped_goes (placed (reserved New) x ∷ []) (λ (z : Spot × B). placed (reserved New) z.0 ∷ pB z.1) (λ y. (x, y)) sound (λ y able. refl))

anew_able : {A : Type 0} (pA : A → List Piece) (rA : Phrase A) → Anew [] pA rA → (ts : List Lexeme) (x : A) (rest : List Lexeme) → rA ts ≡ Ok (x, rest) → Able (pA x)
anew_able pA rA goes ts x rest e = let a = goes.takes ts x rest e in subst Able (sym a.1) (written_able a.0 ts rest a.2)

anew_mapped_stuck : {A B : Type 0} {pA : A → List Piece} {rA : Phrase A} (front : List Piece) (pB : B → List Piece) (f : A → B) → Anew [] pA rA → ((x : A) → Able (pA x) → pB (f x) ≡ front ++ pA x) → (ts : List Lexeme) (s : Stopped) → at (reserved New) ts ≡ true → mapped f rA ts ≡ Err s → Stuck (mapped f rA) front pB ts s
anew_mapped_stuck {A} {B} {pA} {rA} front pB f goes h ts s n e =
    elim (bind_err (rA ts) (λ x. Ok (f x.0, x.1)) s e) [
      | inl d ↦
          let k : Stuck rA [] pA ts s = goes.fails ts s n d in
          record { tree = f k.tree; begun = k.begun; more = k.more; whole = h k.tree (stuck_able rA [] pA ts s tt k) ∙ ap (λ (ps : List Piece). front ++ ps) k.whole; reached = reached_first rA (mapped f rA) k.begun ts s (carries_first rA (λ x us. Ok (f x, us)) ts) k.reached; ready = k.ready }
      | inr d ↦ absurd (let c : ⊥ = (let q = d.2 in cc) in c)
    ]

-- the same, as another value behind a front
pub anew_mapped : {A B : Type 0} {pA : A → List Piece} {rA : Phrase A} (front : List Piece) (pB : B → List Piece) (f : A → B) → Anew [] pA rA → ((x : A) → Able (pA x) → pB (f x) ≡ front ++ pA x) → Anew front pB (mapped f rA)
anew_mapped {A} {B} {pA} {rA} front pB f goes h = record {
  takes = λ ts y rest e.
      let a = bind_ok (rA ts) (λ x. Ok (f x.0, x.1)) (y, rest) e in
      let b = goes.takes ts a.0.0 a.0.1 a.1 in
      subst (λ (z : B × List Lexeme). (back : List Piece) × (pB z.0 ≡ front ++ back) × Written back ts z.1) (ok_is (f a.0.0, a.0.1) (y, rest) a.2)
      (b.0, h a.0.0 (anew_able pA rA goes ts a.0.0 a.0.1 a.1) ∙ ap (λ (ps : List Piece). front ++ ps) b.1, b.2);
  fails = anew_mapped_stuck front pB f goes h;
  plain = mapped_plain f rA goes.plain;
}

-- such a phrase where `new` is next, and else another
pub choose_anew : {A : Type 0} (front : List Piece) (pA : A → List Piece) (p q : Phrase A) → Anew front pA p → Goes front pA q → Goes front pA (choose (at (reserved New)) p q)
choose_anew front pA p q a b = record {
  takes = λ ts x rest e.
      elim (chosen (at (reserved New) ts) (p ts) (q ts) (Ok (x, rest)) e) [
        | inl h ↦ a.takes ts x rest h.1
        | inr h ↦ b.takes ts x rest h.1
      ];
  fails = λ ts s e. choose_stuck front pA (at (reserved New)) p q (λ t us vs. refl) ts s (λ h d. a.fails ts s h d) (λ h d. b.fails ts s d) e;
  some = b.some;
  plain = choose_plain (at (reserved New)) p q (λ t us vs. refl) a.plain b.plain;
}

pub anew_sound : {A : Type 0} (pA : A → List Piece) (p q : Phrase A) → Anew [] pA p → Sound pA q → Sound pA (choose (at (reserved New)) p q)
anew_sound {A} pA p q a b = sound_of (choose_anew [] pA p q a (goes_of [] b))
