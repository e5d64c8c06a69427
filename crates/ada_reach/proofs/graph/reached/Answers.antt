use Rattle.std.proofs.Common.{rules, ◌≡◌, ◌+◌, ◌<◌, ◌≤◌, length, sym, ◌∙◌, arith}
use Rattle.std.proofs.lemmas.List.{get_or_read}
use Rattle.ada_reach.specs.View.{graph_of}
use Rattle.ada_reach.proofs.Finding.{IsDone, at_first, one_done, at_last, as_many, edges_at, is_found}
use Rattle.ada_reach.proofs.graph.reached.Goals as goal

pub loop-done-init : goal.loop-done-init
loop-done-init c =
    let m = as_many c.args.graph.now in
    let same : length c.in_ok-search.search.marks.items ≡ length (graph_of c.args.graph.now) = c.in_ok-search.ensures.length ∙ sym m in
    let d : IsDone (graph_of c.args.graph.now) c.args.starts.now c.add_all.new.self.marks.items c.add_all.new.self.found.items 0 =
    at_first (graph_of c.args.graph.now) c.args.starts.now c.in_ok-search.search.marks.items c.add_all.new.self.marks.items c.in_ok-search.search.found.items c.add_all.new.self.found.items
    same c.in_ok-search.ensures.none c.in_ok-search.ensures.search c.in_ok-add_all.ensures.adds in
    record {
      search = c.in_ok-add_all.ensures.search;
      same = d.same ∙ m;
      within = omega arith;
      reached = d.reached;
      starts = λ n has lt. d.has n has (omega (arith, lt, m));
      closed = λ k n lt e is. d.closed k n lt e (omega (arith, is, m));
    }

pub bounds-graph-node : goal.bounds-graph-node
bounds-graph-node c =
    let lt : c.loop-done.done < length c.loop-done.search.found.items = grind (arith, c.loop-done-test.true, c.len.ensures) in
    is_found c.loop-done.search.marks.items c.loop-done.search.found.items c.loop-done.done c.index-node.result.now (length c.args.graph.now) c.loop-done.invariant.search lt c.index-node.ensures c.loop-done.invariant.same

pub offset_bounds-graph-node : goal.offset_bounds-graph-node
offset_bounds-graph-node c =
    let lt : c.loop-done.done < length c.loop-done.search.found.items = grind (arith, c.loop-done-test.true, c.len.ensures) in
    let node = is_found c.loop-done.search.marks.items c.loop-done.search.found.items c.loop-done.done c.index-node.result.now (length c.args.graph.now) c.loop-done.invariant.search lt c.index-node.ensures c.loop-done.invariant.same in
    search (rules, node)

pub loop-done-preserved : goal.loop-done-preserved
loop-done-preserved c =
    let m = as_many c.args.graph.now in
    let i = c.loop-done.invariant in
    let lt : c.loop-done.done < length c.loop-done.search.found.items = grind (arith, c.loop-done-test.true, c.len.ensures) in
    let node = is_found c.loop-done.search.marks.items c.loop-done.search.found.items c.loop-done.done c.index-node.result.now (length c.args.graph.now) i.search lt c.index-node.ensures i.same in
    let before : IsDone (graph_of c.args.graph.now) c.args.starts.now c.loop-done.search.marks.items c.loop-done.search.found.items c.loop-done.done =
    record {
      same = i.same ∙ sym m;
      reached = i.reached;
      has = λ n has less. i.starts n has (omega (arith, less, m));
      closed = λ k n less e is. i.closed k n less e (omega (arith, is, m));
    } in
    let d : IsDone (graph_of c.args.graph.now) c.args.starts.now c.add_all-in-loop-done.new.self.marks.items c.add_all-in-loop-done.new.self.found.items (c.loop-done.done + 1) =
    one_done (graph_of c.args.graph.now) c.args.starts.now c.loop-done.search.marks.items c.add_all-in-loop-done.new.self.marks.items c.loop-done.search.found.items c.add_all-in-loop-done.new.self.found.items
    c.loop-done.done c.index-node.result.now c.deref.result.now i.search before lt
    (get_or_read c.loop-done.search.found.items c.loop-done.done c.index-node.result.now lt c.index-node.ensures 0)
    (c.deref.ensures.value ∙ edges_at c.args.graph.now c.index-node.result.now c.index-graph-node.result node c.index-graph-node.is)
    c.in_ok-add_all-2.ensures.adds in
    let longer = c.in_ok-add_all-2.ensures.adds.longer in
    record {
      search = c.in_ok-add_all-2.ensures.search;
      same = d.same ∙ m;
      within = omega (arith, lt, longer);
      reached = d.reached;
      starts = λ n has less. d.has n has (omega (arith, less, m));
      closed = λ k n less e is. d.closed k n less e (omega (arith, is, m));
    }

pub returns-clause-marks : goal.returns-clause-marks
returns-clause-marks c = λ n r.
    let m = as_many c.args.graph.now in
    let i = c.loop-done.invariant in
    let all : length c.loop-done.search.found.items ≤ c.loop-done.done = grind (arith, c.loop-done-test.false, c.len.ensures) in
    at_last (graph_of c.args.graph.now) c.args.starts.now c.loop-done.search.marks.items c.loop-done.search.found.items c.loop-done.done i.search
    (record {
      same = i.same ∙ sym m;
      reached = i.reached;
      has = λ k has less. i.starts k has (omega (arith, less, m));
      closed = λ k b less e is. i.closed k b less e (omega (arith, is, m));
    })
    all n r
