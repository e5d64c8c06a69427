-- Lists that blocks hold by their links: what is read from them, and what a change of links makes of them.
use Rattle.std.proofs.Common.{◌≡◌, ◌≢◌, ℕ, zero, suc, ◌+◌, ◌-◌, ◌≤◌, ◌<◌, ◌^◌, Bool, true, false, ◌||◌, List, [], ◌∷◌, ◌++◌, length, refl, sym, ap, ◌∙◌, subst, arith, ◌⊎◌, inl, inr}
use Rattle.std.specs.Prelude.{◌==◌, if◌then◌else◌, slice_get, remove, Some}
use Rattle.std.specs.List.{IsDistinct, list_any, AllByRecursion}
use Rattle.std.proofs.lemmas.Bool.{eqb-true, eqb-false, eq-eqb}
use Rattle.std.proofs.lemmas.Map.Steps.{length-le_from_distinct_below}
use Rattle.std.proofs.Math.Dec.{eqb}
use Rattle.pool_tiles.specs.Tiling.{Tile, block_length, HasWord}
use Rattle.pool_tiles.specs.Kept.{KeepsWords}
use Rattle.ada_final.specs.declared.chain.Chain.{Chain}
use Rattle.ada_final.specs.Linked.{followed, places, NotIn, IsIn, Apart, Once, AllTaken, Linked, Chained, LeavesOthers, StandsAt, without_place}

bool_cases : (b : Bool) → (b ≡ true) ⊎ (b ≡ false)
bool_cases true = inl refl
bool_cases false = inr refl

ne-eqb : (n m : ℕ) → n ≢ m → (n == m) ≡ false
ne-eqb n m ne = elim (bool_cases (n == m)) [ inl it ↦ absurd (ne (eqb-true n m it)) | inr it ↦ it ]

pub same_or_not : (n m : ℕ) → (n ≡ m) ⊎ (n ≢ m)
same_or_not n m = elim (bool_cases (n == m)) [ inl it ↦ inl (eqb-true n m it) | inr it ↦ inr (eqb-false n m it) ]

-- the list that is followed is the one that is linked
pub followed_is : (word : ℕ → ℕ → ℕ) (newer name : ℕ) (ps : List ℕ) → Linked word newer name ps → followed (length ps) name word ≡ ps
followed_is word newer name [] l = refl
followed_is word newer name (p ∷ ps) l =
    let at : name - 1 ≡ p = omega (arith, l.0) in
    ap (λ (k : ℕ). k ∷ followed (length ps) (word k 0) word) at ∙ ap (λ qs. p ∷ qs) (followed_is word (suc p) (word p 0) ps l.2)

pub length_followed : (n name : ℕ) (word : ℕ → ℕ → ℕ) → length (followed n name word) ≡ n
length_followed zero name word = refl
length_followed (suc n) name word = ap suc (length_followed n (word (name - 1) 0) word)

-- a place that is in a list is none that is not
pub in_or_not : (p : ℕ) (ps : List ℕ) → IsIn p ps → NotIn p ps → ⊥
in_or_not p [] i n = i
in_or_not p (q ∷ ps) i n = elim i [ inl e ↦ n.0 e | inr rest ↦ in_or_not p ps rest n.1 ]

pub taken_in : (ts : List Tile) (ps : List ℕ) (p : ℕ) → AllTaken ts ps → IsIn p ps → (4 ≤ block_length ts p) × (p < 2 ^ 32)
taken_in ts [] p all i = absurd i
taken_in ts (q ∷ ps) p all i = elim i [ inl e ↦ subst (λ (k : ℕ). (4 ≤ block_length ts k) × (k < 2 ^ 32)) (sym e) (all.0, all.1) | inr rest ↦ taken_in ts ps p all.2 rest ]

-- links that are kept hold the same list
pub linked_kept : (w v : ℕ → ℕ → ℕ) (newer name : ℕ) (ps : List ℕ) → Linked w newer name ps → ((p : ℕ) → IsIn p ps → (v p 0 ≡ w p 0) × (v p 1 ≡ w p 1)) → Linked v newer name ps
linked_kept w v newer name [] l same = l
linked_kept w v newer name (p ∷ ps) l same =
    let here = same p (inl refl) in
    (l.0, here.1 ∙ l.1, subst (λ (k : ℕ). Linked v (suc p) k ps) (sym here.0) (linked_kept w v (suc p) (w p 0) ps l.2 (λ q i. same q (inr i))))

-- one that another newer block comes before
relinked : (w v : ℕ → ℕ → ℕ) (newer newer2 name : ℕ) (ps : List ℕ) → Linked w newer name ps → Once ps → ((p : ℕ) → name ≡ suc p → IsIn p ps → (v p 0 ≡ w p 0) × (v p 1 ≡ newer2))
    → ((p : ℕ) → name ≢ suc p → IsIn p ps → (v p 0 ≡ w p 0) × (v p 1 ≡ w p 1)) → Linked v newer2 name ps
relinked w v newer newer2 name [] l once first rest = l
relinked w v newer newer2 name (p ∷ ps) l once first rest =
    let here = first p l.0 (inl refl) in (
      l.0,
      here.1,
      subst (λ (k : ℕ). Linked v (suc p) k ps) (sym here.0)
          (linked_kept w v (suc p) (w p 0) ps l.2 (λ q i. rest q (λ e. in_or_not p ps (subst (λ (k : ℕ). IsIn k ps) (omega (arith, e, l.0)) i) once.0) (inr i))),
    )

-- so many distinct places are no more than 2^32
distinct : (ps : List ℕ) → Once ps → IsDistinct eqb ps
unfolding IsDistinct
distinct [] once = tt
distinct (p ∷ ps) once = (differ p ps once.0, distinct ps once.1)
  where
    differ : (p : ℕ) (ps : List ℕ) → NotIn p ps → AllByRecursion (λ (y : ℕ). eqb p y ≡ false) ps
    differ p [] n = tt
    differ p (q ∷ ps) n = (ne-eqb p q n.0, differ p ps n.1)

below : (ts : List Tile) (ps : List ℕ) (q : ℕ) → AllTaken ts ps → list_any (eqb q) ps ≡ true → q < 2 ^ 32
below ts [] q all e = absurd (let z : false ≡ true = e in cc)
below ts (p ∷ ps) q all e =
    elim (bool_cases (eqb q p)) [
      | inl it ↦ let same = eqb-true q p it in let low = all.1 in omega arith
      | inr it ↦ below ts ps q all.2 (sym (ap (λ (b : Bool). b || list_any (eqb q) ps) it) ∙ e)
    ]

pub few_places : (ts : List Tile) (ps : List ℕ) → Once ps → AllTaken ts ps → length ps ≤ 2 ^ 32
few_places ts ps once all = length-le_from_distinct_below ps (2 ^ 32) (distinct ps once) (λ q e. below ts ps q all e)

-- a chain with this list
pub chained : (ts : List Tile) (word : ℕ → ℕ → ℕ) (c : Chain) (ps : List ℕ) → c.left ≡ length ps → Linked word 0 c.newest ps → Once ps → AllTaken ts ps
    → Chained ts word c × (places word c ≡ ps)
chained ts word c ps count linked once taken =
    let is : places word c ≡ ps = ap (λ (n : ℕ). followed n c.newest word) count ∙ followed_is word 0 c.newest ps linked in
    (record { linked = subst (Linked word 0 c.newest) (sym is) linked; once = subst Once (sym is) once; taken = subst (AllTaken ts) (sym is) taken }, is)

-- words that keep the links of a chain's places keep the chain
pub chain_kept : (ts us : List Tile) (w v : ℕ → ℕ → ℕ) (c : Chain) → Chained ts w c → ((p : ℕ) → IsIn p (places w c) → (4 ≤ block_length us p) × (v p 0 ≡ w p 0) × (v p 1 ≡ w p 1))
    → Chained us v c × (places v c ≡ places w c)
chain_kept ts us w v c h same =
    chained us v c (places w c) (sym (length_followed c.left c.newest w))
    (linked_kept w v 0 c.newest (places w c) h.linked (λ p i. ((same p i).1, (same p i).2))) h.once (taken_still ts us (places w c) h.taken (λ p i. (same p i).0))
  where
    taken_still : (ts us : List Tile) (ps : List ℕ) → AllTaken ts ps → ((p : ℕ) → IsIn p ps → 4 ≤ block_length us p) → AllTaken us ps
    taken_still ts us [] all still = tt
    taken_still ts us (p ∷ ps) all still = (still p (inl refl), all.1, taken_still ts us ps all.2 (λ q i. still q (inr i)))

apart_in : (ps qs : List ℕ) (p : ℕ) → Apart ps qs → IsIn p ps → NotIn p qs
apart_in [] qs p a i = absurd i
apart_in (q ∷ ps) qs p a i = elim i [ inl e ↦ subst (λ (k : ℕ). NotIn k qs) (sym e) a.0 | inr rest ↦ apart_in ps qs p a.1 rest ]

-- a change of links of some places leaves the chains of other places
pub others_stay : (touched : List ℕ) (ts : List Tile) (w v : ℕ → ℕ → ℕ) → ((p i : ℕ) → HasWord ts p i → i < 2 → NotIn p touched → v p i ≡ w p i) → LeavesOthers touched ts w v
others_stay touched ts w v same other h apart =
    chain_kept ts ts w v other h (λ p i. let taken = (taken_in ts (places w other) p h.taken i).0 in let out = apart_in (places w other) touched p apart i in
    (taken, same p 0 (omega arith) (omega arith) out, same p 1 (omega arith) (omega arith) out))

-- the newest block is named
pub newest_in : (word : ℕ → ℕ → ℕ) (newer name : ℕ) (ps : List ℕ) → Linked word newer name ps → 0 < name → IsIn (name - 1) ps
newest_in word newer name [] l some = absurd (omega (arith, l))
newest_in word newer name (p ∷ ps) l some = inl (omega (arith, l.0))

-- a block comes first
pub attached : (ts : List Tile) (w v : ℕ → ℕ → ℕ) (c d : Chain) (place : ℕ) → Chained ts w c → 4 ≤ block_length ts place → place < 2 ^ 32 → NotIn place (places w c)
    → d.left ≡ c.left + 1 → d.newest ≡ suc place → v place 0 ≡ c.newest → v place 1 ≡ 0
    → ((p : ℕ) → IsIn p (places w c) → c.newest ≡ suc p → (v p 0 ≡ w p 0) × (v p 1 ≡ suc place))
    → ((p : ℕ) → IsIn p (places w c) → c.newest ≢ suc p → (v p 0 ≡ w p 0) × (v p 1 ≡ w p 1))
    → Chained ts v d × (places v d ≡ place ∷ places w c)
attached ts w v c d place h taken low out left newest older newer first rest =
    let ps = places w c in
    chained ts v d (place ∷ ps) (omega (arith, length_followed c.left c.newest w, left)) (
      newest,
      newer,
      subst (λ (k : ℕ). Linked v (suc place) k ps) (sym older)
          (relinked w v 0 (suc place) c.newest ps h.linked h.once (λ p e i. first p i e) (λ p e i. rest p i e)),
    )
    (out, h.once) (taken, low, h.taken)

-- what is behind a place in a list, and before it
pub record Split (place : ℕ) (ps : List ℕ) : Type 0 where
  pub before : List ℕ
  pub behind : List ℕ
  pub is : ps ≡ before ++ place ∷ behind

pub split_at : (place : ℕ) (ps : List ℕ) → IsIn place ps → Split place ps
split_at place [] i = absurd i
split_at place (p ∷ ps) i = elim i [
  | inl e ↦ record { before = []; behind = ps; is = ap (λ (k : ℕ). k ∷ ps) (sym e) }
  | inr rest ↦ (let x = split_at place ps rest in record { before = p ∷ x.before; behind = x.behind; is = ap (λ qs. p ∷ qs) x.is })
]

in_front : (p place : ℕ) (a b : List ℕ) → IsIn p a → IsIn p (a ++ place ∷ b)
in_front p place [] b i = absurd i
in_front p place (q ∷ a) b i = elim i [ inl e ↦ inl e | inr rest ↦ inr (in_front p place a b rest) ]

in_back : (p place : ℕ) (a b : List ℕ) → IsIn p b → IsIn p (a ++ place ∷ b)
in_back p place [] b i = inr i
in_back p place (q ∷ a) b i = inr (in_back p place a b i)

in_middle : (place : ℕ) (a b : List ℕ) → IsIn place (a ++ place ∷ b)
in_middle place [] b = inl refl
in_middle place (q ∷ a) b = inr (in_middle place a b)

not_in_parts : (p place : ℕ) (a b : List ℕ) → NotIn p (a ++ place ∷ b) → NotIn p (a ++ b)
not_in_parts p place [] b n = n.1
not_in_parts p place (q ∷ a) b n = (n.0, not_in_parts p place a b n.1)

once_parts : (place : ℕ) (a b : List ℕ) → Once (a ++ place ∷ b) → Once (a ++ b)
once_parts place [] b o = o.1
once_parts place (q ∷ a) b o = (not_in_parts q place a b o.0, once_parts place a b o.1)

taken_parts : (ts : List Tile) (place : ℕ) (a b : List ℕ) → AllTaken ts (a ++ place ∷ b) → AllTaken ts (a ++ b)
taken_parts ts place [] b t = t.2
taken_parts ts place (q ∷ a) b t = (t.0, t.1, taken_parts ts place a b t.2)

length_parts : (place : ℕ) (a b : List ℕ) → length (a ++ place ∷ b) ≡ length (a ++ b) + 1
length_parts place [] b = omega arith
length_parts place (q ∷ a) b = omega (arith, length_parts place a b)

pub without_is : (place : ℕ) (a b : List ℕ) → Once (a ++ place ∷ b) → without_place place (a ++ place ∷ b) ≡ a ++ b
without_is place [] b o = ap (λ (t : Bool). if t then b else place ∷ without_place place b) (eq-eqb place place refl)
without_is place (q ∷ a) b o =
    ap (λ (t : Bool). if t then a ++ place ∷ b else q ∷ without_place place (a ++ place ∷ b)) (ne-eqb q place (λ e. in_or_not place (a ++ place ∷ b) (in_middle place a b) (subst (λ (k : ℕ). NotIn k (a ++ place ∷ b)) e o.0)))
    ∙ ap (λ qs. q ∷ qs) (without_is place a b o.1)

-- the name of the first, of two lists one after the other
abbrev pub first_name : List ℕ → ℕ → ℕ → ℕ
first_name [] name older = older
first_name (q ∷ a) name older = name

-- The links beside a place: the newer one's older link, the older one's newer link, and all others.
pub record Beside (w v : ℕ → ℕ → ℕ) (place : ℕ) (ps : List ℕ) : Type 0 where
  pub newer_set : (p : ℕ) → IsIn p ps → w place 1 ≡ suc p → v p 0 ≡ w place 0
  pub older_set : (p : ℕ) → IsIn p ps → w place 0 ≡ suc p → v p 1 ≡ w place 1
  pub older_kept : (p : ℕ) → IsIn p ps → w place 1 ≢ suc p → v p 0 ≡ w p 0
  pub newer_kept : (p : ℕ) → IsIn p ps → w place 0 ≢ suc p → v p 1 ≡ w p 1

-- the place's links name its neighbours
newer_named : (w : ℕ → ℕ → ℕ) (newer name : ℕ) (q place : ℕ) (a b : List ℕ) → Linked w newer name (q ∷ a ++ place ∷ b) → (x : ℕ) × IsIn x (q ∷ a) × (w place 1 ≡ suc x)
newer_named w newer name q place [] b l = (q, inl refl, l.2.1)
newer_named w newer name q place (r ∷ a) b l = let x = newer_named w (suc q) (w q 0) r place a b l.2 in (x.0, inr x.1, x.2)

older_named : (w : ℕ → ℕ → ℕ) (newer name : ℕ) (place : ℕ) (a b : List ℕ) → Linked w newer name (a ++ place ∷ b) → (p : ℕ) → w place 0 ≡ suc p → IsIn p b
older_named w newer name place [] [] l p e = absurd (omega (arith, l.2, e))
older_named w newer name place [] (r ∷ b) l p e = inl (omega (arith, l.2.0, e))
older_named w newer name place (q ∷ a) b l p e = older_named w (suc q) (w q 0) place a b l.2 p e

pub unlinked : (w v : ℕ → ℕ → ℕ) (newer name place : ℕ) (a b ps : List ℕ) → Linked w newer name (a ++ place ∷ b) → Once (a ++ place ∷ b) → ((p : ℕ) → IsIn p (a ++ place ∷ b) → IsIn p ps)
    → ((p : ℕ) → IsIn p (a ++ place ∷ b) → newer ≢ suc p) → Beside w v place ps → Linked v newer (first_name a name (w place 0)) (a ++ b)
unlinked w v newer name place [] b ps l once within fresh beside =
    let at = λ (p : ℕ) (i : IsIn p b). within p (inr i) in
    let kept = λ (p : ℕ) (i : IsIn p b). beside.older_kept p (at p i) (λ e. fresh p (inr i) (sym l.1 ∙ e)) in
    relinked w v (suc place) newer (w place 0) b l.2 once.1 (λ p e i. (kept p i, beside.older_set p (at p i) e ∙ l.1)) (λ p ne i. (kept p i, beside.newer_kept p (at p i) ne))
unlinked w v newer name place (q ∷ a) b ps l once within fresh beside =
    let at = within q (inl refl) in
    let first : v q 1 ≡ newer = beside.newer_kept q at (λ e. in_or_not q (a ++ place ∷ b) (in_back q place a b (older_named w newer name place (q ∷ a) b l q e)) once.0) ∙ l.1 in
    let rest = unlinked w v (suc q) (w q 0) place a b ps l.2 once.1 (λ p i. within p (inr i))
    (λ p i e. in_or_not q (a ++ place ∷ b) (subst (λ (k : ℕ). IsIn k (a ++ place ∷ b)) (omega (arith, e)) i) once.0) beside in
    (l.0, first, subst (λ (k : ℕ). Linked v (suc q) k (a ++ b)) (sym (next_name w v newer name q place a b ps l once within beside)) rest)
  where
    next_name : (w v : ℕ → ℕ → ℕ) (newer name q place : ℕ) (a b ps : List ℕ) → Linked w newer name (q ∷ a ++ place ∷ b) → Once (q ∷ a ++ place ∷ b)
        → ((p : ℕ) → IsIn p (q ∷ a ++ place ∷ b) → IsIn p ps) → Beside w v place ps → v q 0 ≡ first_name a (w q 0) (w place 0)
    next_name w v newer name q place [] b ps l once within beside = beside.newer_set q (within q (inl refl)) l.2.1
    next_name w v newer name q place (r ∷ a) b ps l once within beside =
        let x = newer_named w (suc q) (w q 0) r place a b l.2 in
        beside.older_kept q (within q (inl refl)) (λ e. in_or_not q (r ∷ a ++ place ∷ b)
        (subst (λ (k : ℕ). IsIn k (r ∷ a ++ place ∷ b)) (omega (arith, e, x.2)) (in_front x.0 place (r ∷ a) b x.1)) once.0)

-- a block is taken out
pub detached : (ts : List Tile) (w v : ℕ → ℕ → ℕ) (c d : Chain) (place : ℕ) → Chained ts w c → IsIn place (places w c) → d.left + 1 ≡ c.left
    → (w place 1 ≡ 0 → d.newest ≡ w place 0) → (w place 1 ≢ 0 → d.newest ≡ c.newest) → Beside w v place (places w c)
    → Chained ts v d × (places v d ≡ without_place place (places w c))
detached ts w v c d place h inside left first later beside =
    let x = split_at place (places w c) inside in let a = x.before in let b = x.behind in
    let linked = subst (Linked w 0 c.newest) x.is h.linked in let once = subst Once x.is h.once in
    let named : first_name a c.newest (w place 0) ≡ d.newest = name_is w c d place a b linked first later in
    let count = ap length x.is in let sum = length_parts place a b in let all = length_followed c.left c.newest w in
    let done = chained ts v d (a ++ b) (omega arith)
    (subst (λ (k : ℕ). Linked v 0 k (a ++ b)) named
    (unlinked w v 0 c.newest place a b (places w c) linked once (λ p i. subst (IsIn p) (sym x.is) i) (λ p i e. absurd (omega (arith, e))) beside))
    (once_parts place a b once) (taken_parts ts place a b (subst (AllTaken ts) x.is h.taken)) in
    (done.0, done.1 ∙ sym (without_is place a b once) ∙ ap (without_place place) (sym x.is))
  where
    name_is : (w : ℕ → ℕ → ℕ) (c d : Chain) (place : ℕ) (a b : List ℕ) → Linked w 0 c.newest (a ++ place ∷ b) → (w place 1 ≡ 0 → d.newest ≡ w place 0) → (w place 1 ≢ 0 → d.newest ≡ c.newest)
        → first_name a c.newest (w place 0) ≡ d.newest
    name_is w c d place [] b l first later = sym (first l.1)
    name_is w c d place (q ∷ a) b l first later = let x = newer_named w 0 c.newest q place a b l in sym (later (λ e. absurd (omega (arith, e, x.2))))

-- where a name is 0 nothing is written, else that link of the block that it names
pub record Sets (ts : List Tile) (w v : ℕ → ℕ → ℕ) (name which word : ℕ) : Type 0 where
  pub set_it : (p : ℕ) → name ≡ suc p → v p which ≡ word
  pub kept_it : (p i : ℕ) → HasWord ts p i → ((name ≡ suc p) × (i ≡ which) → ⊥) → v p i ≡ w p i

-- both neighbours' links are set, one after the other
pub beside_of : (ts : List Tile) (w u v : ℕ → ℕ → ℕ) (place : ℕ) (ps : List ℕ) → AllTaken ts ps → Sets ts w u (w place 1) 0 (w place 0) → Sets ts u v (w place 0) 1 (w place 1) → Beside w v place ps
beside_of ts w u v place ps taken one two = record {
  newer_set = λ p i e. let t = (taken_in ts ps p taken i).0 in two.kept_it p 0 (omega arith) (λ x. absurd (omega (arith, x.1))) ∙ one.set_it p e;
  older_set = λ p i e. two.set_it p e;
  older_kept = λ p i ne. let t = (taken_in ts ps p taken i).0 in two.kept_it p 0 (omega arith) (λ x. absurd (omega (arith, x.1))) ∙ one.kept_it p 0 (omega arith) (λ x. ne x.0);
  newer_kept = λ p i ne. let t = (taken_in ts ps p taken i).0 in two.kept_it p 1 (omega arith) (λ x. ne x.0) ∙ one.kept_it p 1 (omega arith) (λ x. absurd (omega (arith, x.1)));
}

-- the neighbours are in the chain
pub neighbour : (ts : List Tile) (w : ℕ → ℕ → ℕ) (c : Chain) (place name : ℕ) → Chained ts w c → IsIn place (places w c) → ((name ≡ w place 0) ⊎ (name ≡ w place 1)) → (p : ℕ) → name ≡ suc p → IsIn p (places w c)
neighbour ts w c place name h inside which p e =
    let x = split_at place (places w c) inside in let a = x.before in let b = x.behind in
    let linked = subst (Linked w 0 c.newest) x.is h.linked in
    subst (IsIn p) (sym x.is) (elim which [
      | inl older ↦ in_back p place a b (older_named w 0 c.newest place a b linked p (sym older ∙ e))
      | inr newer ↦ newer_in w c place name a b linked newer p e
    ])
  where
    newer_in : (w : ℕ → ℕ → ℕ) (c : Chain) (place name : ℕ) (a b : List ℕ) → Linked w 0 c.newest (a ++ place ∷ b) → name ≡ w place 1 → (p : ℕ) → name ≡ suc p → IsIn p (a ++ place ∷ b)
    newer_in w c place name [] b l newer p e = absurd (omega (arith, e, newer, l.1))
    newer_in w c place name (q ∷ a) b l newer p e =
        let x = newer_named w 0 c.newest q place a b l in
        subst (λ (k : ℕ). IsIn k (q ∷ a ++ place ∷ b)) (omega (arith, e, newer, x.2)) (in_front x.0 place (q ∷ a) b x.1)

-- a call of set_link, by what it promises
pub sets_by : (ts us : List Tile) (w v : ℕ → ℕ → ℕ) (name which word : ℕ) → 0 < name → us ≡ ts → v (name - 1) which ≡ word
    → KeepsWords (λ other i. (other ≡ name - 1) × (i ≡ which) → ⊥) us w v → Sets ts w v name which word
sets_by ts us w v name which word some same written kept = record {
  set_it = λ p e. ap (λ (k : ℕ). v k which) (omega arith) ∙ written;
  kept_it = λ p i has ne. kept p i (subst (λ t. HasWord t p i) (sym same) has) (λ x. ne (omega (arith, x.0), x.1));
}

pub sets_none : (ts : List Tile) (w : ℕ → ℕ → ℕ) (name which word : ℕ) → name ≡ 0 → Sets ts w w name which word
sets_none ts w name which word e = record { set_it = λ p f. absurd (omega arith); kept_it = λ p i has ne. refl }

-- what a chain is after a call, and what the call leaves
pub record Done (ts us : List Tile) (w v : ℕ → ℕ → ℕ) (d : Chain) (ps touched : List ℕ) : Type 0 where
  pub chain : Chained us v d
  pub is : places v d ≡ ps
  pub others : LeavesOthers touched ts w v
  pub words : KeepsWords (λ other i. IsIn other touched × (i < 2) → ⊥) ts w v

pub attach_done : (ts t1 t2 t3 : List Tile) (w w1 w2 v : ℕ → ℕ → ℕ) (c d : Chain) (place : ℕ) → Chained ts w c → (place < 2 ^ 32) × (4 ≤ block_length ts place) → NotIn place (places w c)
    → t1 ≡ ts → w1 place 1 ≡ 0 → KeepsWords (λ other i. (other ≡ place) × (i ≡ 1) → ⊥) t1 w w1
    → t2 ≡ t1 → w2 place 0 ≡ c.newest → KeepsWords (λ other i. (other ≡ place) × (i ≡ 0) → ⊥) t2 w1 w2
    → t3 ≡ t2 → Sets t2 w2 v c.newest 1 (place + 1) → d.left ≡ c.left + 1 → d.newest ≡ place + 1
    → Done ts t3 w v d (place ∷ places w c) (place ∷ places w c)
attach_done ts t1 t2 t3 w w1 w2 v c d place h inside out e1 newer k1 e2 older k2 e3 sets left newest =
    let low = inside.0 in let long = inside.1 in
    let is2 : t2 ≡ ts = e2 ∙ e1 in
    let has : (p i : ℕ) → HasWord ts p i → HasWord t1 p i × HasWord t2 p i = λ p i x. (subst (λ t. HasWord t p i) (sym e1) x, subst (λ t. HasWord t p i) (sym is2) x) in
    let not_newest : c.newest ≡ suc place → ⊥ = λ e. in_or_not place (places w c)
    (subst (λ (k : ℕ). IsIn k (places w c)) (omega (arith, e)) (newest_in w 0 c.newest (places w c) h.linked (omega (arith, e)))) out in
    let taken = λ (p : ℕ) (i : IsIn p (places w c)). (taken_in ts (places w c) p h.taken i).0 in
    let away = λ (p : ℕ) (i : IsIn p (places w c)) (e : p ≡ place). in_or_not p (places w c) i (subst (λ (k : ℕ). NotIn k (places w c)) (sym e) out) in
    let kept = λ (p i : ℕ) (x : HasWord ts p i) (ne : p ≢ place). k2 p i (has p i x).1 (λ y. ne y.0) ∙ k1 p i (has p i x).0 (λ y. ne y.0) in
    let zero_word = λ (p : ℕ) (i : IsIn p (places w c)). let t = taken p i in
    let x : HasWord ts p 0 = omega arith in sets.kept_it p 0 (has p 0 x).1 (λ y. absurd (omega (arith, y.1))) ∙ kept p 0 x (away p i) in
    let at0 : HasWord ts place 0 = omega arith in let at1 : HasWord ts place 1 = omega arith in
    let both = attached ts w v c d place h long low out left (newest ∙ omega arith)
    (sets.kept_it place 0 (has place 0 at0).1 (λ y. absurd (omega (arith, y.1))) ∙ older)
    (sets.kept_it place 1 (has place 1 at1).1 (λ y. not_newest y.0) ∙ k2 place 1 (has place 1 at1).1 (λ y. absurd (omega (arith, y.1))) ∙ newer)
    (λ p i e. (zero_word p i, sets.set_it p e ∙ omega arith))
    (λ p i ne. (zero_word p i, let t = taken p i in let x : HasWord ts p 1 = omega arith in sets.kept_it p 1 (has p 1 x).1 (λ y. ne y.0) ∙ kept p 1 x (away p i))) in
    let words = λ (p i : ℕ) (x : HasWord ts p i) (ne : IsIn p (place ∷ places w c) × (i < 2) → ⊥).
    sets.kept_it p i (has p i x).1 (λ y. ne (inr (subst (λ (k : ℕ). IsIn k (places w c)) (omega (arith, y.0)) (newest_in w 0 c.newest (places w c) h.linked (omega (arith, y.0)))), omega (arith, y.1)))
    ∙ k2 p i (has p i x).1 (λ y. ne (inl y.0, omega (arith, y.1))) ∙ k1 p i (has p i x).0 (λ y. ne (inl y.0, omega (arith, y.1))) in
    record {
      chain = subst (λ t. Chained t v d) (sym (e3 ∙ is2)) both.0;
      is = both.1;
      others = others_stay (place ∷ places w c) ts w v (λ p i x less n. words p i x (λ y. in_or_not p (place ∷ places w c) y.0 n));
      words = words;
    }

pub detach_done : (ts t1 t2 : List Tile) (w u v : ℕ → ℕ → ℕ) (c d : Chain) (place : ℕ) → Chained ts w c → IsIn place (places w c)
    → t1 ≡ ts → Sets ts w u (w place 1) 0 (w place 0) → t2 ≡ t1 → Sets ts u v (w place 0) 1 (w place 1)
    → d.left + 1 ≡ c.left → (w place 1 ≡ 0 → d.newest ≡ w place 0) → (w place 1 ≢ 0 → d.newest ≡ c.newest)
    → Done ts t2 w v d (without_place place (places w c)) (places w c)
detach_done ts t1 t2 w u v c d place h inside e1 one e2 two left first later =
    let ps = places w c in
    let both = detached ts w v c d place h inside left first later (beside_of ts w u v place ps h.taken one two) in
    let words = λ (p i : ℕ) (x : HasWord ts p i) (ne : IsIn p ps × (i < 2) → ⊥).
    two.kept_it p i x (λ y. ne (neighbour ts w c place (w place 0) h inside (inl refl) p y.0, omega (arith, y.1)))
    ∙ one.kept_it p i x (λ y. ne (neighbour ts w c place (w place 1) h inside (inr refl) p y.0, omega (arith, y.1))) in
    record {
      chain = subst (λ t. Chained t v d) (sym (e2 ∙ e1)) both.0;
      is = both.1;
      others = others_stay ps ts w v (λ p i x less n. words p i x (λ y. in_or_not p ps y.0 n));
      words = words;
    }

pub not_empty : (p : ℕ) (ps : List ℕ) → IsIn p ps → 0 < length ps
not_empty p [] i = absurd i
not_empty p (q ∷ ps) i = omega arith

-- how far a list was followed
pub record Walked (w : ℕ → ℕ → ℕ) (ps : List ℕ) (passed name : ℕ) : Type 0 where
  pub before : List ℕ
  pub behind : List ℕ
  pub newer : ℕ
  pub is : ps ≡ before ++ behind
  pub count : length before ≡ passed
  pub linked : Linked w newer name behind

pub walk_begun : (ts : List Tile) (w : ℕ → ℕ → ℕ) (c : Chain) → Chained ts w c → Walked w (places w c) 0 c.newest
walk_begun ts w c h = record { before = []; behind = places w c; newer = 0; is = refl; count = refl; linked = h.linked }

length_both : (a b : List ℕ) → length (a ++ b) ≡ length a + length b
length_both [] b = omega arith
length_both (p ∷ a) b = omega (arith, length_both a b)

append_once : (a : List ℕ) (p : ℕ) (b : List ℕ) → (a ++ p ∷ []) ++ b ≡ a ++ p ∷ b
append_once [] p b = refl
append_once (q ∷ a) p b = ap (λ ps. q ∷ ps) (append_once a p b)

walked_here : (w : ℕ → ℕ → ℕ) (ps : List ℕ) (passed name : ℕ) (a b : List ℕ) (newer : ℕ) → ps ≡ a ++ b → length a ≡ passed → Linked w newer name b → passed < length ps
    → StandsAt passed (name - 1) ps × (0 < name) × Walked w ps (passed + 1) (w (name - 1) 0)
walked_here w ps passed name a [] newer is count l less = let all = ap length is in let parts = length_both a [] in absurd (omega arith)
walked_here w ps passed name a (p ∷ b) newer is count l less =
    let at : p ≡ name - 1 = omega (arith, l.0) in let parts = length_both a (p ∷ []) in
    let longer : length (a ++ p ∷ []) ≡ passed + 1 = omega arith in (
      record { before = a; behind = b; is = is ∙ ap (λ (k : ℕ). a ++ k ∷ b) at; count = count },
      omega (arith, l.0),
      record {
        before = a ++ p ∷ [];
        behind = b;
        newer = suc p;
        is = is ∙ sym (append_once a p b);
        count = longer;
        linked = subst (λ (k : ℕ). Linked w (suc p) (w k 0) b) at l.2;
      },
    )

pub walked : (w : ℕ → ℕ → ℕ) (ps : List ℕ) (passed name : ℕ) → Walked w ps passed name → passed < length ps
    → StandsAt passed (name - 1) ps × (0 < name) × Walked w ps (passed + 1) (w (name - 1) 0)
walked w ps passed name x less = walked_here w ps passed name x.before x.behind x.newer x.is x.count x.linked less

pub stands_in : (i place : ℕ) (ps : List ℕ) → StandsAt i place ps → IsIn place ps
stands_in i place ps x = subst (IsIn place) (sym x.is) (in_middle place x.before x.behind)

pub stands_get : (i place : ℕ) (ps : List ℕ) → StandsAt i place ps → slice_get ps i ≡ Some place
stands_get i place ps x = ap (λ qs. slice_get qs i) x.is ∙ ap (slice_get (x.before ++ place ∷ x.behind)) (sym x.count) ∙ get_middle place x.before x.behind
  where
    get_middle : (place : ℕ) (a b : List ℕ) → slice_get (a ++ place ∷ b) (length a) ≡ Some place
    get_middle place [] b = refl
    get_middle place (q ∷ a) b = get_middle place a b

pub stands_removed : (i place : ℕ) (ps : List ℕ) → StandsAt i place ps → Once ps → without_place place ps ≡ remove ps i
stands_removed i place ps x once =
    ap (without_place place) x.is ∙ without_is place x.before x.behind (subst Once x.is once) ∙ sym (remove_middle place x.before x.behind)
    ∙ ap (remove (x.before ++ place ∷ x.behind)) x.count ∙ ap (λ qs. remove qs i) (sym x.is)
  where
    remove_middle : (place : ℕ) (a b : List ℕ) → remove (a ++ place ∷ b) (length a) ≡ a ++ b
    remove_middle place [] b = refl
    remove_middle place (q ∷ a) b = ap (λ qs. q ∷ qs) (remove_middle place a b)
