use Rattle.std.proofs.Common.{◌≡◌, ℕ, List, [], ◌++◌, take, drop, refl, sym, ap, ◌∙◌, append_assoc, take-append-drop}
use Rattle.ada_serve.proofs.Writing.{appends_none, appends_both, idle, works_more, taken_some}
use Rattle.ada_serve.proofs.output.write_all.Goals as goal

pub loop-rest-init : goal.loop-rest-init
loop-rest-init g c = record {
  front = ([], refl, appends_none (g.W.ByteWriter.contents c.args.out.now));
  calls = idle g.W.ByteWriter.writes c.args.out.now;
}

pub loop-rest-preserved : goal.loop-rest-preserved
loop-rest-preserved g c =
    let done = c.loop-rest.invariant.front.0 in
    let k = c.in-Ok.count in
    let rest = c.loop-rest.rest.now in
    let left : c.split_at.result.1.now ≡ drop k rest = c.split_at.ensures.back in
    record {
      front = (
        done ++ take k rest,
        c.loop-rest.invariant.front.1 ∙ ap (λ (r : List ℕ). done ++ r) (sym (take-append-drop k rest)) ∙ sym (append_assoc done (take k rest) (drop k rest)) ∙ ap (λ (r : List ℕ). (done ++ take k rest) ++ r) (sym left),
        appends_both _ _ _ done (take k rest) c.loop-rest.invariant.front.2 c.in-Ok.ensures.written,
      );
      calls = works_more g.W.ByteWriter.writes c.args.out.now c.loop-rest.out c.write.new.self (take k rest) c.loop-rest.invariant.calls (taken_some k rest c.if-count-eq0.false c.in-Ok.ensures.bound) c.in-Ok.ensures.call;
    }
