-- How records with controlled parts lie in others, by what a path says (7.6): walks into declared components go on.

use Rattle.ada_typed.specs.Holding.{WalksTo, HasPartOf, PartsLie}
use Rattle.std.proofs.Common.{◌≡◌, ℕ, ◌+◌, ◌&&◌, ◌==◌, Bool, true, false, List, length, Option, Some, None, arith, ap}
use Rattle.std.specs.Prelude.{◌||◌}
use Rattle.ada_parts.proofs.Facts.{eq_not}
use Rattle.ada_program.specs.ProgramForm.{TypeForm}
use Rattle.ada_program.specs.Controlled.{number_in}
use Rattle.ada_program.specs.Walks.{Walks, ends, into}
use Rattle.ada_program.specs.WellFormed.{finalization_in, finalization_of, part_count, parts_named, has_parts_from, is_found, place_from, is_part_of, has_parts_at}
use Rattle.ada_program.proofs.Deep.{part_is, parts_behind, walked_part}
use Rattle.ada_program.proofs.Walks.{none_found, walked, walks_on}
use Rattle.ada_typed.proofs.Operators.{and_left, and_right}

-- Walks go on, where these are types.
pub walks_to :
    (types : List TypeForm) (t u w : Option ℕ) (first part first_behind part_behind : ℕ) → WalksTo types t u first part
    → WalksTo types u w first_behind part_behind → WalksTo types t w (first + first_behind) (part + part_behind)
walks_to types None u w first part c k walks more = walks
walks_to types (Some t) None w first part c k walks more = absurd walks
walks_to types (Some t) (Some u) None first part c k walks more = absurd more
walks_to types (Some t) (Some u) (Some w) first part c k walks more = walks_on types t first part u c k w walks more

-- What is walked into has controlled parts, where it leads to a record that has some.
pub start_numbered : (types : List TypeForm) (t first part u m : ℕ) → Walks types t first part u → number_in (finalization_of types u) ≡ Some m → (n : ℕ) × (number_in (finalization_of types t) ≡ Some n)
start_numbered types t _ _ _ m ends is = (m, is)
start_numbered types t _ _ u m (into i first part _ number name ps components f p v at there kind known_as walks) is =
    (f.number.0, ap (λ (o : Option TypeForm). number_in (finalization_in o)) at)

-- What a path says of the controlled parts of its record.
second_holds : (a b : Bool) → (a || b) ≡ true → a ≡ false → b ≡ true
second_holds true b is none = absurd (cc)
second_holds false b is none = is

found_walks : (types : List TypeForm) (object : Option ℕ) (t first part : ℕ) → is_found types (length types) t (place_from object first part) ≡ true → WalksTo types object (Some t) first part
found_walks types None t first part is = none_found types (length types) t is
found_walks types (Some w) t first part is = walked types (length types) t w first part is

part_of_type : (types : List TypeForm) (t : ℕ) (object : Option ℕ) → is_part_of types t object ≡ true → HasPartOf types object (Some t)
part_of_type types t None is = absurd (cc is)
part_of_type types t (Some w) is = part_is types t w is

pub parts_lie_at : (types : List TypeForm) (t : ℕ) (object : Option ℕ) (first part : ℕ) → has_parts_at types t object first part ≡ true → PartsLie types object (Some t) first part
parts_lie_at types t object first part is =
    let counted = has_parts_from (part_count types t) part (parts_named types object) in
    let found = is_found types (length types) t (place_from object first part) in
    let none = part_count types t == 0 in
    let lies = counted && (none || found) in
    let inside = is_part_of types t object in
    let controlled = and_left lies inside is in (
      and_left counted (none || found) controlled,
      λ some. found_walks types object t first part
          (second_holds none found (and_right counted (none || found) controlled) (eq_not (part_count types t) 0 (λ is_none. omega (arith, some, is_none)))),
      part_of_type types t object (and_right lies inside is),
    )

-- Parts of parts are parts, where these are types.
pub part_of_part : (types : List TypeForm) (object middle t : Option ℕ) → HasPartOf types object middle → HasPartOf types middle t → HasPartOf types object t
part_of_part types None middle t outer inner = absurd outer
part_of_part types (Some whole) None t outer inner = absurd outer
part_of_part types (Some whole) (Some m) None outer inner = absurd inner
part_of_part types (Some whole) (Some m) (Some t) outer inner = parts_behind types m t whole outer inner

-- What is found by walking into declared components is a part.
pub part_by_walk : (types : List TypeForm) (object t : Option ℕ) (first part : ℕ) → WalksTo types object t first part → HasPartOf types object t
part_by_walk types None t first part walks = walks
part_by_walk types (Some whole) None first part walks = walks
part_by_walk types (Some whole) (Some t) first part walks = walked_part types whole first part t walks
