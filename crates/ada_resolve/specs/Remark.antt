-- What is remarked of a tree: its nodes, and the rules that it breaks where; and the first of these faults.

use Rattle.std.specs.Prelude.{ℕ, ◌+◌, Bool, true, false, ◌||◌, ◌&&◌, ◌==◌, nat_lt, if◌then◌else◌, Option, Some, None}
use Rattle.ada_text.specs.declared.spot.Spot.{Spot}
use Rattle.ada_resolve.specs.declared.fault.NameRule.{NameRule}
use Rattle.ada_resolve.specs.declared.fault.NameRule.TheVariants.{UnknownName, DeclaredTwice, WrongType, NotInProfile, Layout, NoInitialValue, BodyMissing, Limit}
use Rattle.ada_resolve.specs.declared.notes.Notes.{Notes}

-- What is remarked of a part of a tree: nothing; a rule is broken at a spot; a node of the source stands at a spot; or both of two remarks.
pub data Remark : Type 0 where
  fine : Remark
  wrong : Spot → NameRule → Remark
  node : Spot → Remark
  both : Remark → Remark → Remark

infixr 10 ◌also◌
-- One remark and another.
abbrev pub ◌also◌ : Remark → Remark → Remark
a also b = both a b

-- A rule is broken at a spot where the test holds.
abbrev pub wrong_if : Bool → Spot → NameRule → Remark
wrong_if true spot rule = wrong spot rule
wrong_if false spot rule = fine

-- The number of a rule, as it is printed.
abbrev pub rule_number : NameRule → ℕ
rule_number UnknownName = 20
rule_number DeclaredTwice = 21
rule_number WrongType = 22
rule_number NotInProfile = 23
rule_number Layout = 24
rule_number NoInitialValue = 25
rule_number BodyMissing = 26
rule_number Limit = 27

-- Whether one fault comes before another: by line, then by column, and at one spot by the rule's number.
abbrev pub is_before : Spot × NameRule → Spot × NameRule → Bool
is_before f g =
    nat_lt f.0.line g.0.line ||
    (f.0.line == g.0.line &&
    (nat_lt f.0.column g.0.column || (f.0.column == g.0.column && nat_lt (rule_number f.1) (rule_number g.1))))

-- The first of a fault and of the first one so far.
abbrev pub first_of : Spot × NameRule → Option (Spot × NameRule) → Option (Spot × NameRule)
first_of f None = Some f
first_of f (Some g) = if is_before f g then Some f else Some g

-- How many nodes a program has at most: declarations, components, statements, and what they are made of.
abbrev pub most_nodes : ℕ
most_nodes = 10000

-- What is noted after a remark: the first fault so far, and how many nodes came so far; a node past the limit is a fault.
abbrev pub noted : Remark → Notes → Notes
noted fine notes = notes
noted (wrong spot rule) notes = record notes { fault = first_of (spot, rule) notes.fault }
noted (node spot) notes =
    if nat_lt notes.nodes most_nodes
    then record notes { nodes = notes.nodes + 1 }
    else record notes { fault = first_of (spot, Limit) notes.fault }
noted (both a b) notes = noted b (noted a notes)
