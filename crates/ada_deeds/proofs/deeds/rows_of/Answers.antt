use Rattle.std.proofs.Common.{ℕ, List, Bool, length, ap, subst, arith}
use Rattle.std.proofs.lemmas.List.{length_push}
use Rattle.ada_deeds.specs.Graph.{starts_of, MarksReached}
use Rattle.ada_deeds.specs.Rows.{deed_numbered}
use Rattle.ada_deeds.specs.declared.deed.Deed.{Deed}
use Rattle.ada_deeds.proofs.Exact.{row_more}
use Rattle.ada_reach.specs.View.{graph_of}
use Rattle.ada_deeds.proofs.deeds.rows_of.Goals as goal

-- one type more has its marks
pub numbers-preserved : goal.numbers-preserved
numbers-preserved c =
    let i = c.numbers.invariant in
    let e = c.in_ok-push.ensures.items in
    let calls = c.args.calls.now in
    let graph = graph_of calls.callers.items in
    let P : ℕ → List Bool → Type 0 = λ n marks. MarksReached graph (starts_of calls (deed_numbered c.args.kind n)) marks in
    record {
      size = let l = ap length e in let n = length_push c.numbers.rows.items c.in_ok-row.row in let s = i.size in omega (arith, l, n, s);
      rows = row_more P c.numbers.number c.numbers.rows.items c.push.new.self.items c.in_ok-row.row i.size e i.rows
          (subst (λ (d : Deed). MarksReached graph (starts_of calls d) c.in_ok-row.row.items) c.numbered.ensures c.in_ok-row.ensures);
    }
