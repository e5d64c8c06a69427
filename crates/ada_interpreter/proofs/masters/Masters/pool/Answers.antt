-- The newest pool of the declaration is the one that it denotes.
use Rattle.std.proofs.Common.{◌∙◌, sym, ap, List, Option, None}
use Rattle.std.specs.List.{slice_index_or}
use Rattle.ada_interpreter.specs.declared.newest.Newest.{Newest}
use Rattle.ada_interpreter.proofs.MasterLemmas.{pool_known_at}
use Rattle.ada_interpreter.proofs.masters.Masters.pool.Goals as goal

pub returns : goal.returns
returns c =
    let newest = c.newest_at.ensures ∙ ap (λ (newest : List (Option Newest)). slice_index_or newest c.args.declaration.0 None) c.as_slice.ensures.value in
    rw (← c.self.view_is) (c.pool_by.ensures ∙ sym (pool_known_at c.self.inside.collections.items c.self.inside.pools.items c.self.inside.pool_count c.args.declaration.0 c.self.inside.entered c.self.inside.items c.newest_at.result newest c.self.invariant))
