-- Where another activation waits for the running one, it goes on with what is given back.
use Rattle.std.proofs.Common.{◌≡◌, inl, inr, List, map, sym, ◌∙◌, arith}
use Rattle.ada_program.specs.Form.{actual_form}
use Rattle.ada_meaning.specs.declared.state.Value.{Value}
use Rattle.ada_meaning.specs.Step.{stored_back}
use Rattle.ada_interpreter.proofs.ActivationLemmas.{ended}
use Rattle.ada_interpreter.proofs.activations.Activations.end_storing.Goals as goal
use Rattle.ada_interpreter.proofs.activations.Activations.end_storing.Goals.{then-waits, else-waits, then-waits-2+in_ok-push_stored, else-waits-2}

pub returns-after-waits-2 : goal.returns-after-waits-2
returns-after-waits-2 c =
    let first = sym c.in-Some.is ∙ c.at.ensures in
    let back : List Value → List Value = λ (vs : List Value). stored_back (map actual_form c.args.actuals.now) vs in
    elim c.if-waits-2.branch [
      | then-waits-2+in_ok-push_stored w ↦
          let puts = rw (w.values_behind-formals.ensures, w.as_slice.ensures.value, c.take_up.ensures.kept) at w.in_ok-push_stored.ensures in
          let keeps : c.if-waits.take_up ≡ c.in-Some.running.keeps = elim c.if-waits.branch [
            | then-waits v ↦ v.take_up-is
            | else-waits v ↦ absurd (omega arith)
          ] in
          rw (sym c.self.view_is, c.shorten.ensures, c.truncate.ensures.items, w.self-inside-is)
          (ended back c.self.inside.begun c.self.inside.places.items c.self.inside.operands w.push_stored.new.operands c.self.inside.waiting c.take_up.new.waiting c.if-waits.take_up c.in-Some.running first c.take_up.ensures.left (inr (keeps, puts)))
      | else-waits-2 w ↦
          rw (sym c.self.view_is, c.shorten.ensures, c.truncate.ensures.items, w.self-inside-is)
          (ended back c.self.inside.begun c.self.inside.places.items c.self.inside.operands c.take_up.new.operands c.self.inside.waiting c.take_up.new.waiting c.if-waits.take_up c.in-Some.running first c.take_up.ensures.left (inl (omega arith)))
    ]
