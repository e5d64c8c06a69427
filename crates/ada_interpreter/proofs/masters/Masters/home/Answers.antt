-- The newest collection of the type is the one that it denotes.
use Rattle.std.proofs.Common.{◌∙◌, ap, List, Option, None}
use Rattle.std.specs.List.{slice_index_or}
use Rattle.ada_interpreter.specs.declared.newest.Newest.{Newest}
use Rattle.ada_interpreter.proofs.MasterLemmas.{home_at}
use Rattle.ada_interpreter.proofs.masters.Masters.home.Goals as goal

pub returns : goal.returns
returns c =
    let newest = c.newest_at.ensures ∙ ap (λ (newest : List (Option Newest)). slice_index_or newest c.args.access.0 None) c.as_slice.ensures.value in
    rw (← c.self.view_is, home_at c.self.inside.collections.items c.self.inside.pools.items c.self.inside.pool_count c.args.access.0 c.self.inside.entered c.self.inside.items c.newest_at.result newest c.self.invariant) c.home_by.ensures
