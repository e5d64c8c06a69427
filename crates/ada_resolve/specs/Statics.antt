-- Static values, which are known before the run: what is wrong with each, and its value.

use Rattle.std.specs.Prelude.{ℕ, Bool, true, false, nat_le, if◌then◌else◌, Option, Some, None, ℤ, pos, neg_ℤ}
use Rattle.ada_tree.specs.Names.{Ident}
use Rattle.ada_tree.specs.Records.{StaticTree, plain, minus, named as static_name}
use Rattle.ada_resolve.specs.declared.fault.NameRule.TheVariants.{WrongType}
use Rattle.ada_resolve.specs.declared.scope.Entity.{Entity}
use Rattle.ada_resolve.specs.declared.scope.Entity.TheVariants as entity
use Rattle.ada_resolve.specs.Known.{Known, declared, visible, missing, new_name_remark, type_begins}
use Rattle.ada_resolve.specs.Remark.{Remark, fine, wrong, ◌also◌}

-- A number as an Integer (3.5.4). A number of the source is at most the greatest Integer.
abbrev pub integer_of : Bool → ℕ → ℤ
integer_of true n = neg_ℤ (pos n)
integer_of false n = pos n

-- The greatest Integer.
abbrev pub greatest : ℕ
greatest = 2147483647

-- A number, or the greatest Integer where it is greater.
abbrev pub at_most_greatest : ℕ → ℕ
at_most_greatest n = if nat_le n greatest then n else greatest

-- The number that a name stands for; 0 where it stands for none.
abbrev pub number_in : Option Entity → ℤ
number_in (Some (entity.Number n)) = n
number_in (Some other) = pos 0
number_in None = pos 0

-- A static Integer (4.9): a number, or a named number; 0 where something is wrong.
abbrev pub static_value : Known → StaticTree → ℤ
static_value known (plain spot n) = integer_of false (at_most_greatest n)
static_value known (minus spot n) = integer_of true (at_most_greatest n)
static_value known (static_name name) = number_in (visible known name.text)

-- A named number is wanted: another thing of that name is of the wrong kind (8.6).
abbrev pub number_wanted : Option Entity → Ident → Remark
number_wanted (Some (entity.Number n)) name = fine
number_wanted (Some other) name = wrong name.spot WrongType
number_wanted None name = missing None name

-- What is wrong with a name where a number is wanted.
abbrev pub number_name_remark : Known → Ident → Remark
number_name_remark known name = number_wanted (visible known name.text) name

-- What is wrong with a static Integer.
abbrev pub static_remark : Known → StaticTree → Remark
static_remark known (plain spot n) = fine
static_remark known (minus spot n) = fine
static_remark known (static_name name) = number_name_remark known name

-- The truth value that a name stands for; False where it stands for none.
abbrev pub truth_in : Option Entity → Bool
truth_in (Some (entity.Truth b)) = b
truth_in (Some other) = false
truth_in None = false

-- A static Boolean (4.9): True or False; False where something is wrong.
abbrev pub static_truth : Known → StaticTree → Bool
static_truth known (plain spot n) = false
static_truth known (minus spot n) = false
static_truth known (static_name name) = truth_in (visible known name.text)

-- True or False is wanted: another thing of that name is of the wrong kind (8.6).
abbrev pub truth_wanted : Option Entity → Ident → Remark
truth_wanted (Some (entity.Truth b)) name = fine
truth_wanted (Some other) name = wrong name.spot WrongType
truth_wanted None name = missing None name

-- What is wrong with a name where True or False is wanted.
abbrev pub truth_name_remark : Known → Ident → Remark
truth_name_remark known name = truth_wanted (visible known name.text) name

-- What is wrong with a static Boolean.
abbrev pub static_truth_remark : Known → StaticTree → Remark
static_truth_remark known (plain spot n) = wrong spot WrongType
static_truth_remark known (minus spot n) = wrong spot WrongType
static_truth_remark known (static_name name) = truth_name_remark known name

-- `N : constant := 1;` (3.3.2): a node of the source before the objects, a new name, and a static Integer.
abbrev pub constant_remark : Known → Ident → StaticTree → Remark
constant_remark known name value = type_begins known name.spot also new_name_remark known name name.spot also static_remark known value

-- After it the name stands for the number.
abbrev pub constant_known : Known → Ident → StaticTree → Known
constant_known known name value = declared known name.text (entity.Number (static_value known value))
