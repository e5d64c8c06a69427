use Rattle.std.proofs.Common.{◌∙◌}
use Rattle.ada_deeds.specs.declared.calls.Calls.{Calls}
use Rattle.ada_deeds.proofs.Calling.{searched_at_first}
use Rattle.ada_deeds.proofs.Edges.{as_many}
use Rattle.ada_deeds.proofs.calls.Calls.none.Goals as goal

-- there are no edges and no starts
pub returns : goal.returns
returns c = λ p s.
    let calls : Calls = record {
      callers = c.in_ok-no_edges.field-0;
      itself = c.new.result;
      freeing = c.in_ok-no_edges-2.field-0;
      following = c.in_ok-no_edges-3.field-0;
    } in
    searched_at_first p s c.args.nodes.procedures c.args.nodes.types calls
    (as_many calls.callers.items ∙ c.in_ok-no_edges.ensures.size ∙ c.count.ensures) (as_many calls.freeing.items ∙ c.in_ok-no_edges-2.ensures.size)
    (as_many calls.following.items ∙ c.in_ok-no_edges-3.ensures.size) c.in_ok-no_edges.ensures.none c.in_ok-no_edges-2.ensures.none c.in_ok-no_edges-3.ensures.none
    c.new.ensures.items
