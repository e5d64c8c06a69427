-- The words of each object that exists are out.

use Rattle.std.proofs.Common.{◌≡◌, true, List}
use Rattle.ada_program.specs.declared.program.Program.{Program}
use Rattle.ada_program.specs.declared.program.TypeDefinition.{TypeDefinition}
use Rattle.ada_meaning.specs.declared.state.Stage.TheVariants.{Gone}
use Rattle.ada_meaning.specs.Named.{Object, State}
use Rattle.ada_finalized.proofs.Invariant.{Sane, exists, is_gone}
use Rattle.ada_finalized.proofs.Runs.{last_holds}
use Rattle.ada_owners.specs.Places.{is_there}
use Rattle.ada_sound.proofs.Grounds.{IsReached}
use Rattle.ada_sound.proofs.Stored.{AllOut}

-- An object that is there.
sane_out : (types : List TypeDefinition) (x : Object) → is_there x.stage ≡ true → Sane types x → x.out ≡ true
sane_out types x there (exists stage out parts) = out
sane_out types x there (is_gone gone listed dead) = let nowhere : is_there Gone ≡ true = rw gone at there in absurd (cc nowhere)

-- So it is in a state that a run reaches.
pub words_out : (program : Program) (s : State) → IsReached program s → AllOut s.heap
words_out program s reached o x found there =
    sane_out program.types.items x there ((last_holds program reached.0 reached.1 s reached.2).fits.inv.sane o.0 x found)
