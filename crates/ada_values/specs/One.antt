-- What it is to have one result.
use Rattle.std.specs.Prelude.{◌≡◌, ℤ, Result}
use Rattle.ada_values.specs.declared.value.Value.{Value}
use Rattle.ada_values.specs.declared.fault.OperatorFault.{OperatorFault}

-- Some number is such a one, and no other is.
abbrev pub HasOne : (ℤ → Type 0) → Type 0
HasOne P = ((z : ℤ) × P z) × ((y z : ℤ) → P y → P z → y ≡ z)

-- Some outcome is such a one, and no other is.
abbrev pub HasOneOutcome : (Result Value OperatorFault → Type 0) → Type 0
HasOneOutcome P = ((x : Result Value OperatorFault) × P x) × ((x y : Result Value OperatorFault) → P x → P y → x ≡ y)
