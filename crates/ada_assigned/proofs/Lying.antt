-- The controlled parts of a record that lies in an object have the numbers from that of its first part on (7.6).

use Rattle.std.proofs.Common.{◌≡◌, ℕ, ◌+◌, ◌<◌, ◌≤◌, List, Option, Some, None, sym, ◌∙◌, subst, arith}
use Rattle.std.specs.List.{Contains, range_with_len}
use Rattle.std.proofs.lemmas.List.FromFn.{length-range_with_len, get_or-range_with_len}
use Rattle.ada_program.specs.declared.program.TypeDefinition.{TypeDefinition}
use Rattle.ada_program.specs.Controlled.{number_of, shapes_of}
use Rattle.ada_parts.specs.declared.tasks.Direction.TheVariants.{PartsFirst}
use Rattle.ada_parts.specs.Shape.{Shape, parts_of}
use Rattle.ada_parts.specs.Part.{numbers}
use Rattle.ada_parts.specs.Law.{parts_left}
use Rattle.ada_parts.proofs.Numbers.{numbered}
use Rattle.ada_meaning.specs.Step.{parts_for, record_tasks}
use Rattle.ada_finalized.proofs.Counts.{count_has}
use Rattle.ada_finalized.proofs.Inside.{counted}
use Rattle.ada_finalized.proofs.Treated.{parts_from, record_parts, record_first}

-- A number in a range.
within_range : (a m n : ℕ) → Contains (range_with_len a m) n → (a ≤ n) × (n < a + m)
within_range a m n (k, lt, is) =
    let l = length-range_with_len a m in
    let below : k < m = omega (arith, l, lt) in
    let at : a + k ≡ n = sym (get_or-range_with_len a m k n below) ∙ is in
    (omega (arith, at), omega (arith, at, below))

parts_within : (shapes : List Shape) (t : Option ℕ) (first n : ℕ) → Contains (numbers (parts_from shapes t first)) n → (first ≤ n) × (n < first + parts_for shapes t)
parts_within shapes None first n (k, lt, is) = absurd (omega (arith, lt))
parts_within shapes (Some t) first n has = within_range first (parts_of shapes t) n (subst (λ (ns : List ℕ). Contains ns n) (numbered shapes t first) has)

pub record_within :
    (types : List TypeDefinition) (t first n : ℕ) → Contains (numbers (parts_left (shapes_of types) (record_tasks types t PartsFirst first))) n
    → (first ≤ n) × (n < first + parts_for (shapes_of types) (number_of types (Some t)))
record_within types t first n has =
    let each = (record_first types PartsFirst t first).each n in
    let some = count_has n (parts_left (shapes_of types) (record_tasks types t PartsFirst first)) has in
    parts_within (shapes_of types) (number_of types (Some t)) first n (counted n (record_parts types t first) (omega (arith, some, each)))
