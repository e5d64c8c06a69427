-- Where no fault is noted, nothing is wrong.

use Rattle.std.proofs.Common.{◌≡◌, ◌+◌, Bool, true, false, cond, refl}
use Rattle.std.specs.Prelude.{Option, Some, None, not, nat_lt}
use Rattle.ada_text.specs.declared.spot.Spot.{Spot}
use Rattle.ada_resolve.specs.declared.fault.NameRule.{NameRule}
use Rattle.ada_resolve.specs.declared.fault.NameRule.TheVariants.{Limit}
use Rattle.ada_resolve.specs.declared.notes.Notes.{Notes}
use Rattle.ada_resolve.specs.Remark.{Remark, fine, wrong, node, both, wrong_if, is_before, first_of, most_nodes, noted}
use Rattle.ada_resolve.specs.Resolution.{gives, unless_wrong, settled}

-- nothing is wrong by a remark
abbrev pub Quiet : Remark → Type 0
Quiet fine = Unit {0}
Quiet (wrong spot rule) = ⊥
Quiet (node spot) = Unit {0}
Quiet (both a b) = Quiet a × Quiet b

chosen : {X : Type 0} (b : Bool) (x y : X) → cond b (Some x) (Some y) ≡ None → ⊥
chosen true x y e = (cc e)
chosen false x y e = (cc e)

-- a fault stays
noted_first : (f : Spot × NameRule) (o : Option (Spot × NameRule)) → first_of f o ≡ None → ⊥
noted_first f None e = (cc e)
noted_first f (Some g) e = chosen (is_before f g) f g e

counted : (b : Bool) (spot : Spot) (n : Notes) → (cond b (record n { nodes = n.nodes + 1 }) (record n { fault = first_of (spot, Limit) n.fault })).fault ≡ None → n.fault ≡ None
counted true spot n e = e
counted false spot n e = absurd (noted_first (spot, Limit) n.fault e)

pub noted_quiet : (r : Remark) (n : Notes) → (noted r n).fault ≡ None → Quiet r × (n.fault ≡ None)
noted_quiet fine n e = (tt, e)
noted_quiet (wrong spot rule) n e = absurd (noted_first (spot, rule) n.fault e)
noted_quiet (node spot) n e = (tt, counted (nat_lt n.nodes most_nodes) spot n e)
noted_quiet (both a b) n e =
    let later = noted_quiet b (noted a n) e in
    let sooner = noted_quiet a n later.1 in
    ((sooner.0, later.0), sooner.1)

-- a test that makes a remark fails
pub quiet_if : (b : Bool) (spot : Spot) (rule : NameRule) → Quiet (wrong_if b spot rule) → b ≡ false
quiet_if true spot rule q = absurd q
quiet_if false spot rule q = refl

pub quiet_unless : (b : Bool) (spot : Spot) (rule : NameRule) → Quiet (wrong_if (not b) spot rule) → b ≡ true
quiet_unless true spot rule q = refl
quiet_unless false spot rule q = absurd q

-- what is settled has no fault
unless_gives : {X : Type 0} (notes : Notes) (fault : Option (Spot × NameRule)) (x : X) (y : X × Notes) → unless_wrong notes fault x ≡ gives y → (fault ≡ None) × (y.0 ≡ x)
unless_gives notes None x y e = (refl, let same : (x, notes) ≡ y = cc e in ap_first same)
  where
    ap_first : {X : Type 0} {p q : X × Notes} → p ≡ q → q.0 ≡ p.0
    ap_first e = cc e
unless_gives notes (Some fault) x y e = absurd (cc e)

pub settled_all : {X : Type 0} (r : Remark) (n : Notes) (x : X) (y : X × Notes) → settled (noted r n) x ≡ gives y → Quiet r × (n.fault ≡ None) × (y.0 ≡ x)
settled_all r n x y e =
    let found = unless_gives (noted r n) (noted r n).fault x y e in
    let before = noted_quiet r n found.0 in
    (before.0, before.1, found.1)

pub settled_quiet : {X : Type 0} (r : Remark) (n : Notes) (x : X) (y : X × Notes) → settled (noted r n) x ≡ gives y → Quiet r × (y.0 ≡ x)
settled_quiet r n x y e = let found = unless_gives (noted r n) (noted r n).fault x y e in ((noted_quiet r n found.0).0, found.1)
