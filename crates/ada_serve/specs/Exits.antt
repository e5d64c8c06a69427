-- The exit statuses of the program.

use Rattle.std.specs.Prelude.{ℕ}
use Rattle.ada_serve.specs.declared.serve.ServeFault.{ServeFault}
use Rattle.ada_serve.specs.declared.serve.ServeFault.TheVariants.{BadInput, InputTooLong, ReadFailed, WriteFailed, NoSuchPool, NoMemory}
use Rattle.ada_serve.specs.declared.serve.Status.{Status}
use Rattle.ada_serve.specs.declared.serve.Status.TheVariants.{Accepted, Refused, Finished, Unhandled, Stopped, Erroneous}

-- The exit status after a whole answer.
abbrev pub exit_of : Status → ℕ
exit_of Accepted = 0
exit_of Refused = 1
exit_of Finished = 0
exit_of Unhandled = 2
exit_of Stopped = 3
exit_of Erroneous = 3

-- The exit status where the answer is not whole.
abbrev pub fault_exit : ServeFault → ℕ
fault_exit (BadInput place) = 5
fault_exit InputTooLong = 5
fault_exit ReadFailed = 5
fault_exit WriteFailed = 5
fault_exit NoSuchPool = 4
fault_exit NoMemory = 6
