use Rattle.std.proofs.Common.{false, refl}
use Rattle.ada_deeds.specs.declared.found.Found.{Found}
use Rattle.ada_deeds.proofs.Seeking.{nothing_found}
use Rattle.ada_deeds.proofs.found.Found.nothing.Goals as goal

-- no mark is set, and the lists are empty
pub returns : goal.returns
returns c =
    let f : Found = record { itself = false; freed = c.new.result; followed = c.new-2.result; callees = c.new-3.result } in
    nothing_found f refl c.new.ensures.items c.new-2.ensures.items c.new-3.ensures.items
