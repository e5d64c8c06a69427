-- A state whose places are as they are relied on to be, and one in which an object has two owners.

use Rattle.std.specs.Prelude.{◌≡◌, ℕ, zero, suc, Bool, true, false, List, [], ◌∷◌, Option, Some, None, pos}
use Rattle.ada_values.specs.declared.value.Value.TheVariants as scalar
use Rattle.ada_flow.specs.declared.rule.Hold.TheVariants as held
use Rattle.ada_flow.specs.declared.rule.Region.TheVariants.{Whole}
use Rattle.ada_meaning.specs.declared.state.Id.{Id}
use Rattle.ada_meaning.specs.declared.state.Value.{Value}
use Rattle.ada_meaning.specs.declared.state.Value.TheVariants.{Null, Names, Scalar}
use Rattle.ada_meaning.specs.declared.state.Stage.{Stage}
use Rattle.ada_meaning.specs.declared.state.Stage.TheVariants.{Existing, Gone}
use Rattle.ada_meaning.specs.State.{Activation}
use Rattle.ada_meaning.specs.Named.{Object}
use Rattle.ada_owners.specs.Places.{Place, variable, value_at, access_at}
use Rattle.ada_owners.specs.Reliance.{Says, Owns, Borrows, Kinds, kind_of, Reliance, hold_of, Fits}
use Rattle.ada_owners.specs.Keeping.{ended}

-- type Link is access Node; a Node has an Integer, and then Next : Link.
abbrev pub component_access : (access c : ℕ) → Option ℕ
component_access t zero = None
component_access t (suc zero) = Some t
component_access t (suc (suc c)) = None

-- Each variable is a Link.
abbrev pub kinds : Kinds
kinds = record { components = component_access; variables = λ x. Some 0; outer = λ d x. None }

-- The name of this number.
abbrev pub id : ℕ → Id
id n = record { 0 = n }

-- A node with this Next, at a stage, in its collection or not.
abbrev pub node : Value → Stage → Bool → Object
node next stage listed = record {
  cell = record {
    access = 0;
    number = 1;
    home = record { item = 0; pool = Some 0; subpool = None };
    values = Scalar (scalar.Integer (pos 7)) ∷ next ∷ [];
    parts = [];
  };
  stage = stage;
  listed = listed;
  out = listed;
}

-- A running activation with these variables.
abbrev pub running : List Value → List (Activation Value)
running places = record { procedure = None; places = places; operands = [] } ∷ []

-- The first node's Next is the second one; the third one is gone, and its Next is still the first one.
abbrev pub nodes : List Object
nodes = node (Names (id 1)) Existing true ∷ node Null Existing true ∷ node (Names (id 0)) Gone false ∷ []

-- The first variable owns the first node, the next one borrows the second node, and the third one names the node that is gone.
abbrev pub links : List (Activation Value)
links = running (Names (id 0) ∷ Names (id 1) ∷ Names (id 2) ∷ [])

-- What is relied on in that state.
abbrev pub reliance : Reliance
reliance = record { holds = held.Own Whole ∷ held.Alias Whole ∷ held.Lost ∷ []; outer = λ d. []; lent = [] }

-- The places of that state are as they are relied on to be.
abbrev pub LinksFit : Type 0
LinksFit = Fits kinds nodes links (hold_of reliance)

-- The nodes after T := A.Next; A.Next := null; where A is the first variable and T the third one.
abbrev pub parted_nodes : List Object
parted_nodes = node Null Existing true ∷ node Null Existing true ∷ node (Names (id 0)) Gone false ∷ []

-- The variables after that pair.
abbrev pub parted_links : List (Activation Value)
parted_links = running (Names (id 0) ∷ Names (id 1) ∷ Names (id 1) ∷ [])

-- What is relied on after that pair: T owns the second node.
abbrev pub parted_reliance : Reliance
parted_reliance = record reliance { holds = held.Own Whole ∷ held.Alias Whole ∷ held.Own Whole ∷ [] }

-- After that pair, too, all places are as they are relied on to be.
abbrev pub PartedLinksFit : Type 0
PartedLinksFit = Fits kinds parted_nodes parted_links (hold_of parted_reliance)

-- One node, and two variables that name it.
abbrev pub one_node : List Object
one_node = node Null Existing true ∷ []

-- Two variables that name that node.
abbrev pub shared : List (Activation Value)
shared = running (Names (id 0) ∷ Names (id 0) ∷ [])

-- Each of these variables is said to own its object.
abbrev pub two_owners : Reliance
two_owners = record { holds = held.Own Whole ∷ held.Own Whole ∷ []; outer = λ d. []; lent = [] }

-- Where two variables own one node, each place may be as its hold says. Yet once the object of the first variable ends, the second one, which is still said to own its object, names
-- one that is gone: so it matters that owners are alone.
abbrev pub TwoOwnersDangle : Type 0
TwoOwnersDangle =
    ((p : Place) (o : Id) → value_at one_node shared p ≡ Names o
    → Says (access_at one_node) (hold_of two_owners p) (kind_of kinds (access_at one_node) p) o)
    × Owns (hold_of two_owners (variable 1))
    × (value_at (ended one_node (Names (id 0))) shared (variable 1) ≡ Names (id 0))
    × (access_at (ended one_node (Names (id 0))) (id 0) ≡ None)

-- Where the second node of the list ends while a variable borrows it, that variable names an object that is gone: so it matters that
-- aliases are lost.
abbrev pub BorrowerDangles : Type 0
BorrowerDangles =
    Borrows (hold_of reliance (variable 1))
    × (value_at (ended nodes (Names (id 1))) links (variable 1) ≡ Names (id 1))
    × (access_at (ended nodes (Names (id 1))) (id 1) ≡ None)
