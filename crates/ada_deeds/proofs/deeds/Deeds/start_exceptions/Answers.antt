use Rattle.std.proofs.Common.{◌++◌, ◌+◌, List, drop, get_or, sym, ap, ◌∙◌}
use Rattle.std.proofs.lemmas.List.{at_drop_more}
use Rattle.std.specs.Global.{Vec}
use Rattle.std.specs.List.{filter}
use Rattle.ada_deeds.specs.Rows.{does_in}
use Rattle.ada_deeds.specs.Table.{comes_out, coming_out}
use Rattle.ada_deeds.proofs.Table.{one_taken, one_passed}
use Rattle.ada_program.specs.declared.program.Exception.{Exception}
use Rattle.ada_program.specs.declared.program.Exception.TheVariants.{ConstraintError}
use Rattle.ada_deeds.proofs.deeds.Deeds.start_exceptions.Goals as goal
use Rattle.ada_deeds.proofs.deeds.Deeds.start_exceptions.Goals.{then-creation_does+in_ok-push, else-creation_does}

-- one exception more
pub exceptions-preserved : goal.exceptions-preserved
exceptions-preserved c =
    let f = comes_out (does_in c.args.self.now) c.args.record_type in
    let es = c.args.raised.now in
    let i = c.exceptions.exception-index in
    let list = c.exceptions.list.items in
    let rest = drop (i + 1) es in
    let e = get_or es i ConstraintError in
    let left = ap (λ (xs : List Exception). list ++ xs) (at_drop_more (λ (xs : List Exception). coming_out (does_in c.args.self.now) c.args.record_type xs) es i ConstraintError c.exceptions-test.true) in
    elim c.if-creation_does.branch [
      | then-creation_does+in_ok-push w ↦
          ap (λ (v : Vec Exception). v.items ++ filter f rest) w.list-is
          ∙ ap (λ (xs : List Exception). xs ++ filter f rest) w.in_ok-push.ensures.items
          ∙ one_taken f list rest e (sym w.if-creation_does.ensures) ∙ sym left ∙ c.exceptions.invariant
      | else-creation_does w ↦
          ap (λ (v : Vec Exception). v.items ++ filter f rest) w.list-is
          ∙ one_passed f list rest e (sym w.if-creation_does.ensures) ∙ sym left ∙ c.exceptions.invariant
    ]
