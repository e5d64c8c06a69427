-- What is noted is the first fault.

use Rattle.std.proofs.Common.{◌≡◌, ◌∙◌, ℕ, ◌+◌, Bool, true, false, ◌||◌, ◌&&◌, ◌==◌, nat_lt, refl, ap, sym, subst, inl, inr, ◌⊎◌, Option, Some, None, arith}
use Rattle.std.specs.Prelude.{if◌then◌else◌}
use Rattle.ada_text.specs.declared.spot.Spot.{Spot}
use Rattle.ada_resolve.specs.declared.fault.NameRule.{NameRule}
use Rattle.ada_resolve.specs.declared.fault.NameRule.TheVariants.{Limit}
use Rattle.ada_resolve.specs.declared.notes.Notes.{Notes}
use Rattle.ada_resolve.specs.First.{nodes_after, Breaks, IsFirstOf, fine_so_far, NotesTheFirst}
use Rattle.ada_resolve.specs.Remark.{Remark, fine, wrong, node, both, is_before, first_of, rule_number, most_nodes, noted}
use Rattle.std.proofs.lemmas.Bool.Decides.{nat_tests}

-- numbers by one number, and by a test where that is the same
abbrev pub lex : ℕ → ℕ → Bool → Bool
lex a b rest = nat_lt a b || (a == b && rest)

-- what does not come before goes on so
lex_trans : (a b c : ℕ) (r s t : Bool) → (r ≡ false → s ≡ false → t ≡ false) → lex b a r ≡ false → lex c b s ≡ false → lex c a t ≡ false
lex_trans a b c r s t h e f = grind (arith, nat_tests)

lex_asym : (a b : ℕ) (r s : Bool) → (r ≡ true → s ≡ false) → lex a b r ≡ true → lex b a s ≡ false
lex_asym a b r s h e = grind (arith, nat_tests)

lex_irr : (a : ℕ) (r : Bool) → r ≡ false → lex a a r ≡ false
lex_irr a r e = grind (arith, nat_tests)

lt_trans : (a b c : ℕ) → nat_lt b a ≡ false → nat_lt c b ≡ false → nat_lt c a ≡ false
lt_trans a b c e f = grind (arith, nat_tests)

lt_asym : (a b : ℕ) → nat_lt a b ≡ true → nat_lt b a ≡ false
lt_asym a b e = grind (arith, nat_tests)

lt_irr : (a : ℕ) → nat_lt a a ≡ false
lt_irr a = grind (arith, nat_tests)

-- faults come one before another, in one order
before_trans : (f g h : Spot × NameRule) → is_before g f ≡ false → is_before h g ≡ false → is_before h f ≡ false
before_trans f g h =
    lex_trans f.0.line g.0.line h.0.line _ _ _
    (lex_trans f.0.column g.0.column h.0.column _ _ _ (lt_trans (rule_number f.1) (rule_number g.1) (rule_number h.1)))

before_asym : (f g : Spot × NameRule) → is_before f g ≡ true → is_before g f ≡ false
before_asym f g =
    lex_asym f.0.line g.0.line _ _ (lex_asym f.0.column g.0.column _ _ (lt_asym (rule_number f.1) (rule_number g.1)))

before_irr : (f : Spot × NameRule) → is_before f f ≡ false
before_irr f = lex_irr f.0.line _ (lex_irr f.0.column _ (lt_irr (rule_number f.1)))

-- a fault is there, and the other does not come before it
abbrev pub IsAtMost : Option (Spot × NameRule) → Spot × NameRule → Type 0
IsAtMost None g = ⊥
IsAtMost (Some f) g = is_before g f ≡ false

at_same : (o : Option (Spot × NameRule)) (g : Spot × NameRule) → o ≡ Some g → IsAtMost o g
at_same None g e = absurd cc
at_same (Some f) g e = let q : f ≡ g = cc in subst (λ (x : Spot × NameRule). is_before x f ≡ false) q (before_irr f)

at_trans : (o : Option (Spot × NameRule)) (x g : Spot × NameRule) → IsAtMost o x → is_before g x ≡ false → IsAtMost o g
at_trans None x g h k = absurd h
at_trans (Some f) x g h k = before_trans f x g h k

older : (before now : Option (Spot × NameRule)) (g : Spot × NameRule) → IsAtMost before g → ((x : Spot × NameRule) → before ≡ Some x → IsAtMost now x) → IsAtMost now g
older None now g h k = absurd h
older (Some x) now g h k = at_trans now x g (k x refl) h

new_by : (b : Bool) (f g : Spot × NameRule) → is_before f g ≡ b → IsAtMost (if b then Some f else Some g) f
new_by true f g e = before_irr f
new_by false f g e = e

old_by : (b : Bool) (f g : Spot × NameRule) → is_before f g ≡ b → IsAtMost (if b then Some f else Some g) g
old_by true f g e = before_asym f g e
old_by false f g e = before_irr g

come_by : (b : Bool) (f g : Spot × NameRule) → ((if b then Some f else Some g) ≡ Some g) ⊎ ((if b then Some f else Some g) ≡ Some f)
come_by true f g = inr refl
come_by false f g = inl refl

-- the first of a fault and of another: it is one of them, and comes after neither
first_new : (f : Spot × NameRule) (o : Option (Spot × NameRule)) → IsAtMost (first_of f o) f
first_new f None = before_irr f
first_new f (Some g) = new_by (is_before f g) f g refl

first_old : (f : Spot × NameRule) (o : Option (Spot × NameRule)) (g : Spot × NameRule) → o ≡ Some g → IsAtMost (first_of f o) g
first_old f None g e = absurd cc
first_old f (Some h) g e =
    let q : h ≡ g = cc in subst (λ (x : Spot × NameRule). IsAtMost (first_of f (Some h)) x) q (old_by (is_before f h) f h refl)

first_come : (f : Spot × NameRule) (o : Option (Spot × NameRule)) → (first_of f o ≡ o) ⊎ (first_of f o ≡ Some f)
first_come f None = inr refl
first_come f (Some g) = come_by (is_before f g) f g

-- a node, by whether the limit is passed
abbrev pub node_by : Bool → Spot → Notes → Notes
node_by b spot m = if b then record m { nodes = m.nodes + 1 } else record m { fault = first_of (spot, Limit) m.fault }

node_nodes : (b : Bool) (spot : Spot) (m : Notes) → (node_by b spot m).nodes ≡ (if b then m.nodes + 1 else m.nodes)
node_nodes true spot m = refl
node_nodes false spot m = refl

node_old : (b : Bool) (spot : Spot) (m : Notes) (g : Spot × NameRule) → m.fault ≡ Some g → IsAtMost (node_by b spot m).fault g
node_old true spot m g e = at_same m.fault g e
node_old false spot m g e = first_old (spot, Limit) m.fault g e

node_new : (b : Bool) (spot : Spot) (m : Notes) (g : Spot × NameRule) → b ≡ false → g ≡ (spot, Limit) → IsAtMost (node_by b spot m).fault g
node_new true spot m g e h = absurd cc
node_new false spot m g e h = subst (λ (x : Spot × NameRule). IsAtMost (first_of (spot, Limit) m.fault) x) (sym h) (first_new (spot, Limit) m.fault)

-- what comes of a remark: what was noted, or a fault of its own
abbrev pub Comes : Option (Spot × NameRule) → Option (Spot × NameRule) → Remark → ℕ → Type 0
Comes now before r n = (now ≡ before) ⊎ ((f : Spot × NameRule) × (now ≡ Some f) × Breaks r n f)

own_come : (now before : Option (Spot × NameRule)) (r : Remark) (n : ℕ) (f : Spot × NameRule) → Breaks r n f → (now ≡ before) ⊎ (now ≡ Some f) → Comes now before r n
own_come now before r n f h (inl e) = inl e
own_come now before r n f h (inr e) = inr (f, e, h)

node_come : (b : Bool) (spot : Spot) (m : Notes) → nat_lt m.nodes most_nodes ≡ b → Comes (node_by b spot m).fault m.fault (node spot) m.nodes
node_come true spot m e = inl refl
node_come false spot m e =
    own_come (first_of (spot, Limit) m.fault) m.fault (node spot) m.nodes (spot, Limit) (e, refl) (first_come (spot, Limit) m.fault)

noted_nodes : (r : Remark) (m : Notes) → (noted r m).nodes ≡ nodes_after r m.nodes
noted_nodes fine m = refl
noted_nodes (wrong spot rule) m = refl
noted_nodes (node spot) m = node_nodes (nat_lt m.nodes most_nodes) spot m
noted_nodes (both a b) m = noted_nodes b (noted a m) ∙ ap (nodes_after b) (noted_nodes a m)

-- what is noted comes after nothing that was noted before
noted_old : (r : Remark) (m : Notes) (g : Spot × NameRule) → m.fault ≡ Some g → IsAtMost (noted r m).fault g
noted_old fine m g e = at_same m.fault g e
noted_old (wrong spot rule) m g e = first_old (spot, rule) m.fault g e
noted_old (node spot) m g e = node_old (nat_lt m.nodes most_nodes) spot m g e
noted_old (both a b) m g e = older (noted a m).fault (noted b (noted a m)).fault g (noted_old a m g e) (noted_old b (noted a m))

-- nor after anything that is remarked
noted_new : (r : Remark) (m : Notes) (g : Spot × NameRule) → Breaks r m.nodes g → IsAtMost (noted r m).fault g
noted_new fine m g h = absurd h
noted_new (wrong spot rule) m g h =
    subst (λ (x : Spot × NameRule). IsAtMost (first_of (spot, rule) m.fault) x) (sym h) (first_new (spot, rule) m.fault)
noted_new (node spot) m g h = node_new (nat_lt m.nodes most_nodes) spot m g h.0 h.1
noted_new (both a b) m g (inl h) = older (noted a m).fault (noted b (noted a m)).fault g (noted_new a m g h) (noted_old b (noted a m))
noted_new (both a b) m g (inr h) =
    noted_new b (noted a m) g (subst (λ (n : ℕ). Breaks b n g) (sym (noted_nodes a m)) h)

come_both : (now between before : Option (Spot × NameRule)) (a b : Remark) (n : ℕ) → Comes between before a n → Comes now between b (nodes_after a n) → Comes now before (both a b) n
come_both now between before a b n (inl e) (inl d) = inl (d ∙ e)
come_both now between before a b n (inr (f, e, h)) (inl d) = inr (f, d ∙ e, inl h)
come_both now between before a b n c (inr (f, e, h)) = inr (f, e, inr h)

-- and is one of them
noted_come : (r : Remark) (m : Notes) → Comes (noted r m).fault m.fault r m.nodes
noted_come fine m = inl refl
noted_come (wrong spot rule) m =
    own_come (first_of (spot, rule) m.fault) m.fault (wrong spot rule) m.nodes (spot, rule) refl (first_come (spot, rule) m.fault)
noted_come (node spot) m = node_come (nat_lt m.nodes most_nodes) spot m refl
noted_come (both a b) m =
    come_both (noted b (noted a m)).fault (noted a m).fault m.fault a b m.nodes (noted_come a m)
    (subst (λ (n : ℕ). Comes (noted b (noted a m)).fault (noted a m).fault b n) (noted_nodes a m) (noted_come b (noted a m)))

come_some : (n : ℕ) (f : Spot × NameRule) (r : Remark) → Comes (Some f) None r n → Breaks r n f
come_some n f r (inl e) = absurd cc
come_some n f r (inr (g, e, h)) = let q : g ≡ f = cc in subst (λ (x : Spot × NameRule). Breaks r n x) q h

conclude : (n : ℕ) (o : Option (Spot × NameRule)) (r : Remark) → Comes o None r n → ((g : Spot × NameRule) → Breaks r n g → IsAtMost o g) → IsFirstOf n o r
conclude n None r c h = h
conclude n (Some f) r c h = (come_some n f r c, h)

-- what is noted of a remark is its first fault
pub notes_the_first : NotesTheFirst
notes_the_first n r = conclude n (noted r (fine_so_far n)).fault r (noted_come r (fine_so_far n)) (noted_new r (fine_so_far n))
