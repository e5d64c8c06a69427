-- What bodies may do that shun some access types: which procedures they may call, of which access types they may free objects, whose finalization (7.6.1) calls
-- such procedures alone, and of which they may allocate objects, whose initialization (7.6) does, and their finalization where an exception comes out of that.
-- So it is with the record objects that they declare. And to records of which types they may assign as wholes though these have controlled parts (5.2), whose
-- finalization calls such procedures alone; and which may get their values from others: their adjustment (7.6) calls such procedures alone.

use Rattle.std.specs.Prelude.{◌≡◌, ℕ, Bool, true, List, [], ◌∷◌, Some}
use Rattle.ada_parts.specs.declared.tasks.Direction.{Direction}
use Rattle.ada_parts.specs.declared.tasks.Direction.TheVariants.{PartsFirst, WholeFirst}
use Rattle.ada_parts.specs.Part.{Part}
use Rattle.ada_parts.specs.Task.{Task, performs, performed, treats}
use Rattle.ada_program.specs.declared.program.TypeDefinition.{TypeDefinition}
use Rattle.ada_program.specs.Controlled.{operations_of, procedure_number, shapes_of}
use Rattle.ada_meaning.specs.Step.{all_tasks, picked_task, record_tasks}

-- The procedures that such bodies may call; the access types of which they may free objects (13.11.2), and those of which they may allocate objects by default
-- (4.8); of the types by which record objects are known (3.3.1), those of which such objects may end, and begin by default; the record types with controlled
-- parts of which a record may end to which another one is assigned (5.2), and those of which one may get its value from another one (3.3.1, 5.2); and the types of
-- the program.
pub record Apart : Type 0 where
  pub calls : (procedure : ℕ) → Bool
  pub ends : (type_number : ℕ) → Bool
  pub starts : (type_number : ℕ) → Bool
  pub assigns : (record_type : ℕ) → Bool
  pub copies : (record_type : ℕ) → Bool
  pub definitions : List TypeDefinition

-- What is left of the initialization or the finalization of an object of an access type (7.6, 7.6.1), by the order in which its parts come: all of it, or what
-- is left once a component has been picked, or once an operation has been called.
pub data IsLeftOf (definitions : List TypeDefinition) (direction : Direction) (access : ℕ) : List Task → Type 0 where
  whole : IsLeftOf definitions direction access (all_tasks definitions access direction)
  picked : {tasks : List Task} → (i : ℕ) → IsLeftOf definitions direction access tasks
      → IsLeftOf definitions direction access (picked_task (shapes_of definitions) direction tasks i)
  called : {tasks : List Task} → IsLeftOf definitions direction access tasks → IsLeftOf definitions direction access (performed tasks)

-- What is left of the finalization or the adjustment of a record of a type that is assigned to (5.2, 7.6), and lies in an object, by the order in which its
-- parts come: all of it, or what is left once a component has been picked, or once an operation would have been called.
pub data IsLeftIn (definitions : List TypeDefinition) (direction : Direction) (record_type : ℕ) : List Task → Type 0 where
  whole_in : (first : ℕ) → IsLeftIn definitions direction record_type (record_tasks definitions record_type direction first)
  picked_in : {tasks : List Task} → (i : ℕ) → IsLeftIn definitions direction record_type tasks
      → IsLeftIn definitions direction record_type (picked_task (shapes_of definitions) direction tasks i)
  called_in : {tasks : List Task} → IsLeftIn definitions direction record_type tasks → IsLeftIn definitions direction record_type (performed tasks)

-- The initialization of an object of an access type comes to this part.
abbrev pub IsBegunIn : List TypeDefinition → (access of part : ℕ) → Type 0
IsBegunIn definitions access of part = (tasks : List Task) × IsLeftOf definitions PartsFirst access (performs of part ∷ tasks)

-- It has come to each of these.
abbrev pub AreBegunIn : List TypeDefinition → (access : ℕ) → List Part → Type 0
AreBegunIn definitions access [] = Unit {0}
AreBegunIn definitions access (p ∷ ps) = IsBegunIn definitions access p.of p.number × AreBegunIn definitions access ps

-- Where an exception comes out of it, such parts are left to be finalized (7.6.1).
abbrev pub AreUndoneIn : List TypeDefinition → (access : ℕ) → List Task → Type 0
AreUndoneIn definitions access [] = Unit {0}
AreUndoneIn definitions access (performs of part ∷ tasks) = IsBegunIn definitions access of part × AreUndoneIn definitions access tasks
AreUndoneIn definitions access (treats components ∷ tasks) = ⊥

-- Where the finalization of an object that they may free calls a Finalize, that is one of these procedures; so it is with an Initialize that the initialization
-- of one calls that they may allocate, with a Finalize of what has begun of that, with one of a part of a record to which they may assign as a whole, and with an
-- Adjust that is called for a part of a record that may get its value from another one.
pub record CallsApart (definitions : List TypeDefinition) (apart : Apart) : Type 0 where
  pub finalizes :
      (access of part number : ℕ) (tasks : List Task) → apart.ends access ≡ true → IsLeftOf definitions WholeFirst access (performs of part ∷ tasks)
      → procedure_number (operations_of definitions of).finalize ≡ Some number → apart.calls number ≡ true
  pub initializes :
      (access of part number : ℕ) → apart.starts access ≡ true → IsBegunIn definitions access of part
      → procedure_number (operations_of definitions of).initialize ≡ Some number → apart.calls number ≡ true
  pub undoes :
      (access of part number : ℕ) → apart.starts access ≡ true → IsBegunIn definitions access of part
      → procedure_number (operations_of definitions of).finalize ≡ Some number → apart.calls number ≡ true
  pub overwrites :
      (record_type of part number : ℕ) (tasks : List Task) → apart.assigns record_type ≡ true
      → IsLeftIn definitions WholeFirst record_type (performs of part ∷ tasks) → procedure_number (operations_of definitions of).finalize ≡ Some number
      → apart.calls number ≡ true
  pub adjusts :
      (record_type of part number : ℕ) (tasks : List Task) → apart.copies record_type ≡ true
      → IsLeftIn definitions PartsFirst record_type (performs of part ∷ tasks)
      → procedure_number (operations_of definitions of).adjust ≡ Some number → apart.calls number ≡ true
