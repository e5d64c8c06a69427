use Rattle.std.proofs.Common.{ℕ, take}
use Rattle.std.specs.List.{Contains}
use Rattle.ada_effects.specs.Found.{has_number}
use Rattle.ada_flow.specs.Reached.{IsDesignated}
use Rattle.ada_program.specs.Kept.{types_in}
use Rattle.ada_flow.proofs.reached.designated_types.Given as goal

-- those of the access types so far
abbrev pub invariant-accesses : goal.invariant-accesses
invariant-accesses l = record {
  all : (whole : ℕ) → IsDesignated (types_in l.types) (has_number (take l.access-index l.accesses)) whole → Contains l.found.items whole;
  only : (whole : ℕ) → Contains l.found.items whole → IsDesignated (types_in l.types) (has_number (take l.access-index l.accesses)) whole;
}
