-- The controlled parts of an object as storage sees them, and what is left of a treatment: records that are not controlled are passed through.

use Rattle.std.specs.Prelude.{◌≡◌, ◌⊎◌, ℕ, ◌+◌, ◌==◌, if◌then◌else◌, List, [], ◌∷◌, ◌++◌, length, Option, Some, None}
use Rattle.ada_parts.specs.declared.tasks.Component.{Component}
use Rattle.ada_parts.specs.Shape.{Shape, own_parts, parts_of}
use Rattle.ada_parts.specs.Part.{in_order}
use Rattle.ada_parts.specs.Task.{Task, performs, treats}
use Rattle.ada_storage.specs.State.{Forest, none, tree, Job, all_in, call, called, same}

-- The parts of one forest, and then those of another.
abbrev pub both : Forest → Forest → Forest
both none g = g
both (tree p inside others) g = tree p inside (both others g)

-- The parts of all components, one component after another.
abbrev pub all_of : (Component → Forest) → List Component → Forest
all_of forest [] = none
all_of forest (c ∷ cs) = both (forest c) (all_of forest cs)

-- A controlled record is a part, in which those of its components lie (7.6).
abbrev pub around : Shape → (part : ℕ) → (inside : Forest) → Forest
around shape p inside = if shape.controlled then tree p inside none else inside

-- The parts of a record of a type, whose first part has this number.
abbrev pub forest_at : List Shape → (of first : ℕ) → Forest
forest_at [] of first = none
forest_at (shape ∷ older) of first =
    if of == length older
    then around shape first (all_of (λ c. forest_at older c.of c.first) (in_order (parts_of older) shape.components (first + own_parts shape)))
    else forest_at older of first

-- The parts of a record that lies in an object, where its first part has this number: none, if no such record has any.
abbrev pub forest_in : List Shape → Option ℕ → (first : ℕ) → Forest
forest_in shapes None first = none
forest_in shapes (Some t) first = forest_at shapes t first

-- The parts of an object, by its type's number among the record types that have any.
abbrev pub forest_for : List Shape → Option ℕ → Forest
forest_for shapes t = forest_in shapes t 0

-- The parts of components.
abbrev pub forest_of : List Shape → List Component → Forest
forest_of shapes cs = all_of (λ c. forest_at shapes c.of c.first) cs

-- How often a part lies in no other part of a forest.
abbrev pub tops : (part : ℕ) → Forest → ℕ
tops x none = 0
tops x (tree p inside others) = same x p + tops x others

-- A part lies in no other part of a forest, and this lies in it.
abbrev pub HasTree : (part : ℕ) → (inside : Forest) → Forest → Type 0
HasTree x f none = ⊥
HasTree x f (tree p inside others) = ((x ≡ p) × (f ≡ inside)) ⊎ HasTree x f others

-- Two forests have the same parts, but perhaps in another order.
pub record AreAlike (f g : Forest) : Type 0 where
  pub counts : (x : ℕ) → tops x f ≡ tops x g
  pub trees : (x : ℕ) (inside : Forest) → HasTree x inside g → HasTree x inside f

-- Groups of components that are treated one after another, before what comes behind.
abbrev pub grouped : List (List Component) → List Task → List Task
grouped [] behind = behind
grouped (cs ∷ groups) behind = treats cs ∷ grouped groups behind

-- All of their components.
abbrev pub in_groups : List (List Component) → List Component
in_groups [] = []
in_groups (cs ∷ groups) = cs ++ in_groups groups

-- Such groups come next, and this forest has the parts of their components: what was open where records that are not controlled were opened.
pub record AreNext (shapes : List Shape) (f : Forest) (tasks : List Task) (behind : List Task) : Type 0 where
  pub groups : List (List Component)
  pub next : tasks ≡ grouped groups behind
  pub alike : AreAlike f (forest_of shapes (in_groups groups))

-- What is left of an initialization (7.6).
abbrev pub Begins : List Shape → List Job → List Task → Type 0
Begins shapes [] tasks = tasks ≡ []
Begins shapes (all_in f ∷ jobs) tasks = (behind : List Task) × AreNext shapes f tasks behind × Begins shapes jobs behind
Begins shapes (call p ∷ jobs) tasks = (of : ℕ) × (behind : List Task) × (tasks ≡ performs of p ∷ behind) × Begins shapes jobs behind
Begins shapes (called p ∷ jobs) tasks = ⊥

-- A record is finalized, and then its components (7.6.1).
pub record IsWhole (shapes : List Shape) (f : Forest) (tasks behind : List Task) : Type 0 where
  pub of : ℕ
  pub part : ℕ
  pub inside : Forest
  pub rest : List Task
  pub is : f ≡ tree part inside none
  pub first : tasks ≡ performs of part ∷ rest
  pub components : AreNext shapes inside rest behind

-- What is left of a finalization (7.6.1).
abbrev pub Ends : List Shape → (left : List Forest) → List Task → Type 0
Ends shapes [] tasks = tasks ≡ []
Ends shapes (f ∷ fs) tasks = (behind : List Task) × (AreNext shapes f tasks behind ⊎ IsWhole shapes f tasks behind) × Ends shapes fs behind

-- A record of these parts: it is controlled, if its own operation comes behind those of the parts that lie in it (7.6).
abbrev pub over_inside : (inside : Forest) → List Task → Forest
over_inside inside [] = inside
over_inside inside (treats cs ∷ rest) = inside
over_inside inside (performs of part ∷ rest) = tree part inside none

-- The parts of a record, by all that is to be done where it is adjusted (7.6).
abbrev pub forest_adjusted : List Shape → List Task → Forest
forest_adjusted shapes [] = none
forest_adjusted shapes (treats cs ∷ rest) = over_inside (forest_of shapes cs) rest
forest_adjusted shapes (performs of part ∷ rest) = tree part none none
