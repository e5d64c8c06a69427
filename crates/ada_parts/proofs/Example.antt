-- The example meets the premises.

use Rattle.std.proofs.Common.{◌≡◌, ℕ, ◌<◌, true, false, List, [], ◌∷◌, refl, arith}
use Rattle.ada_parts.specs.Shape.{Shape, IsTable, parts_of}
use Rattle.ada_parts.specs.Law.{here, picks, calls}
use Rattle.ada_parts.specs.Example.{table, AnInitialization, AFinalization}
use Rattle.ada_parts.proofs.Facts.{all_cons, all_none}
use Rattle.ada_parts.proofs.Held.{table_newer}

none_table : IsTable []
none_table = record {
  earlier = λ t c lt has. absurd (omega (arith, lt));
  have_parts = λ t c lt has. absurd (omega (arith, lt));
}

abbrev one : List Shape
one = record { controlled = true; components = [] } ∷ []

abbrev two : List Shape
two = record { controlled = false; components = 0 ∷ 0 ∷ [] } ∷ one

one_table : IsTable one
one_table = table_newer (record { controlled = true; components = [] }) [] none_table (all_none (λ (c : ℕ). (c < 0) × (0 < parts_of [] c)))

two_table : IsTable two
two_table =
    let P : ℕ → Type 0 = λ c. (c < 1) × (0 < parts_of one c) in
    table_newer (record { controlled = false; components = 0 ∷ 0 ∷ [] }) one one_table
    (all_cons P 0 (0 ∷ []) (omega arith, omega arith) (all_cons P 0 [] (omega arith, omega arith) (all_none P)))

pub is_table : IsTable table
is_table =
    let P : ℕ → Type 0 = λ c. (c < 2) × (0 < parts_of two c) in
    table_newer (record { controlled = true; components = 1 ∷ 0 ∷ [] }) two two_table
    (all_cons P 1 (0 ∷ []) (omega arith, omega arith) (all_cons P 0 [] (omega arith, omega arith) (all_none P)))

pub four_parts : parts_of table 2 ≡ 4
four_parts = refl

pub initialized : AnInitialization
initialized =
    picks 1 (omega arith) (calls 0 3 refl (picks 0 (omega arith)
    (picks 1 (omega arith) (calls 0 2 refl (picks 0 (omega arith) (calls 0 1 refl (calls 2 0 refl here)))))))

pub finalized : AFinalization
finalized =
    calls 2 0 refl (picks 0 (omega arith) (picks 0 (omega arith) (calls 0 1 refl (picks 0 (omega arith)
    (calls 0 2 refl (picks 0 (omega arith) (calls 0 3 refl here)))))))
