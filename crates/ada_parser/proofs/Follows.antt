-- What is read is written so: phrases whose first tokens are nested too deep, which tokens behind them show.
use Rattle.std.proofs.Common.{◌≡◌, Bool, true, false, List, [], ◌∷◌, ◌++◌, Result, Ok, Err, ◌⊎◌, inl, inr, refl, ap, subst, sym, ◌∙◌, append_assoc, arith}
use Rattle.ada_text.specs.declared.spot.Spot.{Spot}
use Rattle.ada_text.specs.Token.{Kind, Lexeme}
use Rattle.ada_tree.specs.Piece.{Piece, anywhere, placed, deep, Written, Spelled}
use Rattle.ada_reader.specs.Step.{◌>>=◌, Stopped, here, too_deep, Phrase, spot_of, is_kind, fixed, continued, after, choose}
use Rattle.ada_parser.specs.FirstFault.{MayFollow}
use Rattle.ada_parser.proofs.Local.{Plain, Peeks, sunk, continued_plain, choose_plain}
use Rattle.ada_parser.proofs.Sound.{bind_ok, bind_err, chosen, ok_is, err_is, written_spelled, Written-append, written_used, written_before, Ready, ready_append, settled, Sinks, Reached, Carries, reached_on, reached_first, carries_on, carries_first, Stuck, Sound, Goes, IsOther, fixed_takes, fixed_sound, spot_is}

-- They begin with the same token.
abbrev pub Alike : List Lexeme → List Lexeme → Type 0
Alike [] us = ⊥
Alike (t ∷ ts) [] = ⊥
Alike (t ∷ ts) (u ∷ us) = t ≡ u

-- Any tokens do.
abbrev pub Whichever : List Lexeme → List Lexeme → Type 0
Whichever ts us = Unit {0}

-- Where this phrase stops, behind the tokens used, the whole stops so too; and so it is with tokens that are the same so far.
abbrev pub Onward : {A : Type 0} → (List Lexeme → List Lexeme → Type 0) → Phrase A → List Lexeme → List Lexeme → Phrase A → Type 0
Onward same read used ts whole = (more : List Lexeme) (s : Stopped) → same ts more → read more ≡ Err s → whole (used ++ more) ≡ Err s

-- What stands behind a front that was read; where it stops, some tree goes on from the first token of the front.
pub record Follows {A : Type 0} (same : List Lexeme → List Lexeme → Type 0) (front : List Piece) (pieces : A → List Piece) (read : Phrase A) : Type 0 where
  pub takes : (ts : List Lexeme) (x : A) (rest : List Lexeme) → read ts ≡ Ok (x, rest) → (back : List Piece) × (pieces x ≡ front ++ back) × Written back ts rest
  pub fails : (whole : Phrase A) (used ts : List Lexeme) (s : Stopped) → Written front used [] → Onward same read used ts whole → read ts ≡ Err s → Stuck whole [] pieces (used ++ ts) s
  pub plain : Plain read

pub behind_front : {A : Type 0} (front : List Piece) (pA : A → List Piece) (read whole : Phrase A) (used ts : List Lexeme) (s : Stopped) → Written front used [] → Carries read used ts whole → Stuck read front pA ts s → Stuck whole [] pA (used ++ ts) s
behind_front front pA read whole used ts s w c k = record {
  tree = k.tree;
  begun = front ++ k.begun;
  more = k.more;
  whole = k.whole ∙ sym (append_assoc front k.begun k.more);
  reached = reached_on read whole front k.begun used ts s w c k.reached;
  ready = k.ready;
}

onward_carries : {A : Type 0} (same : List Lexeme → List Lexeme → Type 0) (read : Phrase A) (used ts : List Lexeme) (whole : Phrase A) → ((t : Lexeme) (us vs : List Lexeme) → same (t ∷ us) (t ∷ vs)) → Onward same read used ts whole → Carries read used ts whole
onward_carries same read used ts whole alike c t rest e more s d = c (t ∷ more) s (subst (λ (us : List Lexeme). same us (t ∷ more)) (sym e) (alike t rest more)) d

pub follows_of : {A : Type 0} {front : List Piece} {pA : A → List Piece} {rA : Phrase A} (same : List Lexeme → List Lexeme → Type 0) → ((t : Lexeme) (us vs : List Lexeme) → same (t ∷ us) (t ∷ vs)) → Goes front pA rA → Follows same front pA rA
follows_of {A} {front} {pA} {rA} same alike goes = record {
  takes = goes.takes;
  fails = λ whole used ts s w c e. behind_front front pA rA whole used ts s w (onward_carries same rA used ts whole alike c) (goes.fails ts s e);
  plain = goes.plain;
}

test_alike : (test : List Lexeme → Bool) → Peeks test → (ts us : List Lexeme) → Alike ts us → test us ≡ test ts
test_alike test peeks [] us e = absurd e
test_alike test peeks (t ∷ ts) [] e = absurd e
test_alike test peeks (t ∷ ts) (u ∷ us) e = ap (λ (v : Lexeme). test (v ∷ us)) (sym e) ∙ peeks t us ts

pub choose_follows : {A : Type 0} (front : List Piece) (pA : A → List Piece) (test : List Lexeme → Bool) (p q : Phrase A) → Peeks test → Follows Alike front pA p → Follows Alike front pA q → Follows Alike front pA (choose test p q)
choose_follows front pA test p q peeks a b = record {
  takes = λ ts x rest e.
      elim (chosen (test ts) (p ts) (q ts) (Ok (x, rest)) e) [
        | inl h ↦ a.takes ts x rest h.1
        | inr h ↦ b.takes ts x rest h.1
      ];
  fails = λ whole used ts s w c e.
      elim (chosen (test ts) (p ts) (q ts) (Err s) e) [
        | inl h ↦ a.fails whole used ts s w (λ more t al d. c more t al (let g : test more ≡ true = test_alike test peeks ts more al ∙ h.0 in rw g d)) h.1
        | inr h ↦ b.fails whole used ts s w (λ more t al d. c more t al (let g : test more ≡ false = test_alike test peeks ts more al ∙ h.0 in rw g d)) h.1
      ];
  plain = choose_plain test p q peeks a.plain b.plain;
}

-- A tree that begins with the front, and may go on, not with `new`.
abbrev pub Begins : {A : Type 0} → List Piece → (A → List Piece) → Type 0
Begins {A} front pieces = (x : A) × (back : List Piece) × (pieces x ≡ front ++ back) × Ready back

fixed_left : (k : Kind) (ts : List Lexeme) (s : Stopped) → fixed k ts ≡ Err s → here ts ≡ s
unfolding fixed
fixed_left k [] s e = err_is (here []) s e
fixed_left k (t ∷ ts) s e =
    elim (chosen (is_kind k t.kind) (Ok (spot_of t, ts)) (Err (here (t ∷ ts))) (Err s) e) [
      | inl h ↦ absurd (let c : ⊥ = (let q = h.1 in cc) in c)
      | inr h ↦ err_is (here (t ∷ ts)) s h.1
    ]

-- a word or delimiter that is there is found whatever stands behind it
pub fixed_found : (k : Kind) (t : Lexeme) (ts : List Lexeme) (y : Spot × List Lexeme) → fixed k (t ∷ ts) ≡ Ok y → (y.1 ≡ ts) × ((more : List Lexeme) → fixed k (t ∷ more) ≡ Ok (y.0, more))
unfolding fixed
fixed_found k t ts y e =
    elim (chosen (is_kind k t.kind) (Ok (spot_of t, ts)) (Err (here (t ∷ ts))) (Ok y) e) [
      | inl h ↦
          let same : (spot_of t, ts) ≡ y = ok_is (spot_of t, ts) y h.1 in
          (sym (ap (λ (z : Spot × List Lexeme). z.1) same), λ more. rw h.0 (ap (λ (z : Spot × List Lexeme). Ok (z.0, more)) same))
      | inr h ↦ absurd (let c : ⊥ = (let q = h.1 in cc) in c)
    ]

-- a word or delimiter that is not there
pub token_fails : {A : Type 0} (front : List Piece) (pA : A → List Piece) (k : Kind) → Begins front pA → (whole : Phrase A) (used ts : List Lexeme) (s : Stopped) → Written front used [] → fixed k ts ≡ Err s → Stuck whole [] pA (used ++ ts) s
token_fails front pA k begins whole used ts s w e = record { tree = begins.0; begun = front; more = begins.1; whole = begins.2; reached = subst (Reached whole front (used ++ ts)) (fixed_left k ts s e) (written_before front used ts w); ready = begins.3 }

nothing_found : (k : Kind) (y : Spot × List Lexeme) → fixed k [] ≡ Ok y → ⊥
unfolding fixed
nothing_found k y e = cc

-- behind a word or delimiter that is there
pub found_fails : {A : Type 0} (front : List Piece) (pA : A → List Piece) (k : Kind) (q : Spot → Phrase A) (whole : Phrase A) (used ts : List Lexeme) (s : Stopped) → Onward Alike (continued (fixed k) q) used ts whole → (y : Spot × List Lexeme) → fixed k ts ≡ Ok y → q y.0 y.1 ≡ Err s → ((t : Lexeme) (rest : List Lexeme) → Written (placed k y.0 ∷ []) (t ∷ []) [] → Onward Whichever (q y.0) (used ++ t ∷ []) rest whole → q y.0 rest ≡ Err s → Stuck whole [] pA ((used ++ t ∷ []) ++ rest) s) → Stuck whole [] pA (used ++ ts) s
found_fails front pA k q whole used [] s c y f e h = absurd (nothing_found k y f)
found_fails front pA k q whole used (t ∷ ts) s c y f e h =
    let g = fixed_found k t ts y f in
    let w : Written (placed k y.0 ∷ []) (t ∷ ts) y.1 = fixed_takes k (t ∷ ts) y.0 y.1 f in
    subst (λ (us : List Lexeme). Stuck whole [] pA us s) (append_assoc used (t ∷ []) ts)
    (h t ts (w.0, refl) (λ more z _ d. ap whole (append_assoc used (t ∷ []) more) ∙ c (t ∷ more) z refl (rw (g.1 more) d)) (subst (λ (us : List Lexeme). q y.0 us ≡ Err s) g.0 e))

pub after_follows : {A : Type 0} (front : List Piece) (pA : A → List Piece) (k : Kind) (rA : Phrase A) → IsOther k → Begins front pA → Follows Whichever (front ++ anywhere k ∷ []) pA rA → Follows Alike front pA (after k rA)
after_follows {A} front pA k rA other begins follows = record {
  takes = λ ts x rest e.
      let a = bind_ok (fixed k ts) (λ z. rA z.1) (x, rest) e in
      let b = follows.takes a.0.1 x rest a.2 in
      (anywhere k ∷ b.0, b.1 ∙ append_assoc front (anywhere k ∷ []) b.0, Written-append (anywhere k ∷ []) b.0 ts a.0.1 rest ((fixed_sound k other).takes ts a.0.0 a.0.1 a.1) b.2);
  fails = λ whole used ts s w c e.
      elim (bind_err (fixed k ts) (λ z. rA z.1) s e) [
        | inl d ↦ token_fails front pA k begins whole used ts s w d
        | inr d ↦ found_fails front pA k (λ _. rA) whole used ts s c d.0 d.1 d.2
            (λ t rest p onward f. follows.fails whole (used ++ t ∷ []) rest s (Written-append front (anywhere k ∷ []) (used ++ t ∷ []) (t ∷ []) [] (written_before front used (t ∷ []) w) (p.0.0, refl)) onward f)
      ];
  plain = continued_plain (fixed k) (λ _. rA) (fixed_sound k other).plain (λ ts x rest e. follows.plain);
}

begun_stuck : {A B : Type 0} {pA : A → List Piece} (read : Phrase A) (whole : Phrase B) (pB : B → List Piece) → ((x : A) → Begins (pA x) pB) → (ts : List Lexeme) (s : Stopped) → Carries read [] ts whole → Stuck read [] pA ts s → Stuck whole [] pB ts s
begun_stuck {A} {B} {pA} read whole pB begins ts s c k =
    let n = begins k.tree in
    record { tree = n.0; begun = k.begun; more = k.more ++ n.1; whole = n.2 ∙ (ap (λ (ps : List Piece). ps ++ n.1) k.whole ∙ append_assoc k.begun k.more n.1); reached = reached_first read whole k.begun ts s c k.reached; ready = ready_append k.more n.1 k.ready n.3 }

carries_alike : {A B : Type 0} (read : Phrase A) (used ts : List Lexeme) (whole : Phrase B) → Carries read used ts whole → (more : List Lexeme) (s : Stopped) → Alike ts more → read more ≡ Err s → whole (used ++ more) ≡ Err s
carries_alike read used [] whole c more s al e = absurd al
carries_alike read used (t ∷ ts) whole c [] s al e = absurd al
carries_alike read used (t ∷ ts) whole c (u ∷ more) s al e = subst (λ (v : Lexeme). whole (used ++ v ∷ more) ≡ Err s) al (c t ts refl more s (subst (λ (v : Lexeme). read (v ∷ more) ≡ Err s) (sym al) e))

follows_stuck : {A B : Type 0} {pA : A → List Piece} {rA : Phrase A} (pB : B → List Piece) (q : A → Phrase B) → Sound pA rA → ((x : A) → Follows Alike (pA x) pB (q x)) → (ts : List Lexeme) (s : Stopped) (x : A) (mid : List Lexeme) → rA ts ≡ Ok (x, mid) → q x mid ≡ Err s → Stuck (continued rA q) [] pB ts s
follows_stuck {A} {B} {pA} {rA} pB q sound h ts s x mid e d =
    let u = written_used (pA x) ts mid (sound.takes ts x mid e) in
    subst (λ (us : List Lexeme). Stuck (continued rA q) [] pB us s) (sym u.1)
    ((h x).fails (continued rA q) u.0 mid s u.2 (carries_alike (q x) u.0 mid (continued rA q) (carries_on rA q sound.plain ts mid x e u.0 u.1)) d)

pub continued_follows : {A B : Type 0} {pA : A → List Piece} {rA : Phrase A} (pB : B → List Piece) (q : A → Phrase B) → Sound pA rA → ((x : A) → Begins (pA x) pB) → ((x : A) → Follows Alike (pA x) pB (q x)) → Sound pB (continued rA q)
continued_follows {A} {B} {pA} {rA} pB q sound begins h = record {
  takes = λ ts y rest e.
      let a = bind_ok (rA ts) (λ x. q x.0 x.1) (y, rest) e in
      let b = (h a.0.0).takes a.0.1 y rest a.2 in
      subst (λ (ps : List Piece). Written ps ts rest) (sym b.1) (Written-append (pA a.0.0) b.0 ts a.0.1 rest (sound.takes ts a.0.0 a.0.1 a.1) b.2);
  fails = λ ts s e.
      elim (bind_err (rA ts) (λ x. q x.0 x.1) s e) [
        | inl d ↦ begun_stuck rA (continued rA q) pB begins ts s (carries_first rA q ts) (sound.fails ts s d)
        | inr d ↦ follows_stuck pB q sound h ts s d.0.0 d.0.1 d.1 d.2
      ];
  some =
      let n = begins sound.some.0 in
      (n.0, subst Ready (sym n.2) (ready_append (pA sound.some.0) n.1 sound.some.1 n.3));
  plain = continued_plain rA q sound.plain (λ ts x rest e. (h x).plain);
}

-- ---- where nesting is too deep

pub spelled_append : (ps qs : List Piece) (ts mid rest : List Lexeme) → Spelled ps ts mid → Spelled qs mid rest → Spelled (ps ++ qs) ts rest
spelled_append [] qs ts mid rest p q = subst (λ (us : List Lexeme). Spelled qs us rest) (sym p) q
spelled_append (piece ∷ ps) qs [] mid rest p q = absurd p
spelled_append (piece ∷ ps) qs (t ∷ ts) mid rest p q = (p.0, spelled_append ps qs ts mid rest p.1 q)

-- a token at which it is too deep, and what stands behind it and shows it
pub first_sinks : {A : Type 0} (whole : Phrase A) (k : Kind) (spot : Spot) (ps behind : List Piece) (used shown left : List Lexeme) → Written (placed k spot ∷ ps) used [] → Spelled behind shown [] → ((more : List Lexeme) → MayFollow left more → whole (used ++ (shown ++ more)) ≡ Err (too_deep spot)) → Sinks whole (deep k ∷ (ps ++ behind)) (used ++ (shown ++ left)) spot
first_sinks whole k spot ps behind [] shown left w s h = absurd w
first_sinks whole k spot ps behind (t ∷ used) shown left w s h = record {
  shallow = [];
  kind = k;
  behind = ps ++ behind;
  whole = refl;
  before = [];
  token = t;
  shown = used ++ shown;
  left = left;
  split = ap (λ (us : List Lexeme). t ∷ us) (sym (append_assoc used shown left));
  written = refl;
  is_so = w.0.0;
  stands = spot_is t spot w.0.1 w.0.2;
  spelled = spelled_append ps behind (used ++ shown) shown [] (written_spelled ps (used ++ shown) shown (written_before ps used shown w.1)) s;
  tells = settled (λ more f. ap (λ (us : List Lexeme). whole (t ∷ us)) (append_assoc used shown more) ∙ h more f);
}

pub written_split : (ps qs : List Piece) (ts rest : List Lexeme) → Written (ps ++ qs) ts rest → (mid : List Lexeme) × Written ps ts mid × Written qs mid rest
written_split [] qs ts rest w = (ts, refl, w)
written_split (p ∷ ps) qs [] rest w = absurd w
written_split (p ∷ ps) qs (t ∷ ts) rest w = let m = written_split ps qs ts rest w.1 in (m.0, (w.0, m.1), m.2)

-- a reader for which it is always too deep
pub sunk_plain : {A : Type 0} (spot : Spot) → Plain {A = A} (λ ts. Err (too_deep spot))
sunk_plain spot = record { shrinks = λ ts. omega arith; fate = λ u t. sunk spot (λ a. refl) }

-- ---- steps that do the same, but for some that fail

pub bind_ok_on : {A B E : Type 0} (r : Result A E) (f g : A → Result B E) (y : B) → ((x : A) → f x ≡ Ok y → g x ≡ Ok y) → (r >>= f) ≡ Ok y → (r >>= g) ≡ Ok y
bind_ok_on (Ok x) f g y h e = h x e
bind_ok_on (Err c) f g y h e = absurd cc

pub bind_err_on : {A B E : Type 0} (Other : Type 0) (r : Result A E) (f g : A → Result B E) (d : E) → ((x : A) → r ≡ Ok x → f x ≡ Err d → (g x ≡ Err d) ⊎ Other) → (r >>= f) ≡ Err d → ((r >>= g) ≡ Err d) ⊎ Other
bind_err_on Other (Ok x) f g d h e = h x refl e
bind_err_on Other (Err c) f g d h e = inl e
