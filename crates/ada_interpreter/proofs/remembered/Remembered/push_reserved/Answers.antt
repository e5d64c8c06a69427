-- There is room, so the new object is kept.
use Rattle.std.proofs.Common.{Result, Ok, Err, OnOk, IsOk}
use Rattle.ada_interpreter.proofs.RememberedLemmas.{all_more}
use Rattle.ada_interpreter.proofs.remembered.Remembered.push_reserved.Goals as goal

of_ok : {X E P : Type 0} (r : Result X E) → IsOk r → OnOk r P → P
of_ok (Ok x) is p = p
of_ok (Err e) is p = absurd (cc)

pub returns : goal.returns
returns c =
    let old = c.args.self.now in
    let updates = of_ok c.insert.result (c.insert.ensures.succeeds c.requires.place) c.insert.ensures.updates in
    all_more old.kept c.insert.new.self old.created c.args.object updates
