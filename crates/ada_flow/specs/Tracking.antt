-- The components of its formal parameter that a body tracks: what they hold is followed as what variables hold (7.6).

use Rattle.std.specs.Prelude.{ℕ, ◌+◌, Bool, false, ◌&&◌, ◌||◌, ◌==◌, if◌then◌else◌, List, [], ◌∷◌, ◌++◌, map, Option, Some, None}
use Rattle.ada_program.specs.declared.program.ComponentKind.TheVariants as component
use Rattle.ada_program.specs.declared.program.PartKind.{PartKind}
use Rattle.ada_program.specs.declared.program.PartKind.TheVariants as part
use Rattle.ada_program.specs.declared.program.VariableKind.{VariableKind}
use Rattle.ada_program.specs.declared.program.VariableKind.TheVariants as variable
use Rattle.ada_program.specs.Form.{PathForm, RecordPathForm}
use Rattle.ada_program.specs.ProgramForm.{PartForm, TypeForm, VariableForm, nowhere}
use Rattle.ada_program.specs.WellFormed.{selected_kind, variable_kind}

-- The components of its formal parameter that a body tracks, by their numbers in the record; what they hold stands behind what the variables hold, from
-- the number `first` on.
pub record Tracks : Type 0 where
  pub first : ℕ
  pub components : List ℕ

-- A body that tracks nothing.
abbrev pub no_tracks : Tracks
no_tracks = record { first = 0; components = [] }

-- A body that has so many variables, and tracks these components behind them, if there are any.
abbrev pub tracks_behind : (variables : ℕ) → (components : List ℕ) → Tracks
tracks_behind n [] = no_tracks
tracks_behind n (c ∷ cs) = record { first = n; components = c ∷ cs }

-- Does a path begin with this component of the formal parameter, which is the first variable of its body?
abbrev pub begins_with : (component root : ℕ) → (selectors : List ℕ) → Bool
begins_with c x [] = false
begins_with c x (d ∷ ds) = (x == 0) && (d == c)

-- The selectors behind the first one.
abbrev pub behind_first : List ℕ → List ℕ
behind_first [] = []
behind_first (c ∷ cs) = cs

-- A path as it is judged where these components are tracked, of which the first has this number among what is held.
abbrev pub seen_from : (components : List ℕ) → (number : ℕ) → PathForm → PathForm
seen_from [] n path = path
seen_from (c ∷ cs) n path =
    if begins_with c path.root path.selectors
    then record { root = n; of_record = false; selectors = behind_first path.selectors; spot = path.spot }
    else seen_from cs (n + 1) path

-- A path as it is judged: one that begins with a tracked component begins with what that holds.
abbrev pub seen : Tracks → PathForm → PathForm
seen tracks path = seen_from tracks.components tracks.first path

-- Is a path this component of the formal parameter?
abbrev pub is_component : (component root : ℕ) → (selectors : List ℕ) → Bool
is_component c x [] = false
is_component c x (d ∷ []) = (x == 0) && (d == c)
is_component c x (d ∷ e ∷ ds) = false

-- Is a path one of these components of the formal parameter?
abbrev pub is_one_of : (components : List ℕ) → PathForm → Bool
is_one_of [] path = false
is_one_of (c ∷ cs) path = is_component c path.root path.selectors || is_one_of cs path

-- Is a path a tracked component itself?
abbrev pub is_tracked : Tracks → PathForm → Bool
is_tracked tracks path = is_one_of tracks.components path

-- The numbers of so many tracked components among what is held, from this one on.
abbrev pub numbers_from : (components : List ℕ) → (number : ℕ) → List ℕ
numbers_from [] n = []
numbers_from (c ∷ cs) n = n ∷ numbers_from cs (n + 1)

-- The numbers of the tracked components among what is held.
abbrev pub tracked_numbers : Tracks → List ℕ
tracked_numbers tracks = numbers_from tracks.components tracks.first

-- Is a path the formal parameter itself?
abbrev pub is_formal : (root : ℕ) → (selectors : List ℕ) → Bool
is_formal x [] = x == 0
is_formal x (c ∷ cs) = false

-- Is a record the formal parameter as a whole (6.2)? A controlled record is its own first controlled part.
abbrev pub is_whole_formal : RecordPathForm → Bool
is_whole_formal p = is_formal p.object.root p.object.selectors && (p.part == 0)

-- What is said of tracked components, behind what is said of variables.
abbrev pub with_tracked : {A : Type 0} → List A → (tracked : List A) → List A
with_tracked xs [] = xs
with_tracked xs (y ∷ ys) = xs ++ y ∷ ys

-- What is held, where there is nothing an Integer.
abbrev pub kind_or_integer : Option VariableKind → VariableKind
kind_or_integer None = variable.Integer
kind_or_integer (Some kind) = kind

-- A component of the formal parameter of this kind, as the variable as which it is judged.
abbrev pub tracked_variable : List TypeForm → (formal : Option VariableKind) → (component : ℕ) → VariableForm
tracked_variable types formal c = record { name = []; spot = nowhere; kind = kind_or_integer (selected_kind types formal c); borrows = false }

-- The variables of a body as they are judged, and behind them one for each tracked component.
abbrev pub judged : List TypeForm → Tracks → List VariableForm → List VariableForm
judged types tracks variables = with_tracked variables (map (tracked_variable types (variable_kind variables 0)) tracks.components)

-- The number of a declared component that is of an access type, if it is, and the first of its own elementary components has this number.
abbrev pub number_within : (first : ℕ) → PartKind → List ℕ
number_within first (part.Elementary (component.Integer initial)) = []
number_within first (part.Elementary (component.Boolean initial)) = []
number_within first (part.Elementary (component.Access access)) = first ∷ []
number_within first (part.Record t) = []
number_within first part.Parent = []

-- The numbers of the declared components that are of access types.
abbrev pub access_numbers : List PartForm → List ℕ
access_numbers [] = []
access_numbers (p ∷ ps) = number_within p.first p.kind ++ access_numbers ps
