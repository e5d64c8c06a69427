-- The places of the caller lie in front of those of the running activation.
use Rattle.std.proofs.Common.{◌≡◌, map, length, refl, arith, sym, ◌∙◌}
use Rattle.std.proofs.lemmas.List.{with_items_is}
use Rattle.ada_program.specs.Form.{actual_form}
use Rattle.ada_interpreter.proofs.ActivationLemmas.{caller_gets, no_caller, running_keeps}
use Rattle.ada_interpreter.proofs.activations.Activations.give_back.Goals as goal

pub returns-in-Some-at : goal.returns-in-Some-at
returns-in-Some-at c =
    let first = sym c.in-Some.is ∙ c.at.ensures in
    let second = sym c.in-Some-at.is ∙ c.at-in-Some.ensures in
    let held = c.as_mut_slice-places.ensures.value in
    let given = rw held at c.copy_back_behind.ensures.given in
    let before = rw held at c.copy_back_behind.ensures.before in
    let formals = rw held at c.copy_back_behind.ensures.formals in
    let gets = caller_gets c.self.inside.begun c.self.inside.places.items c.copy_back_behind.new.places c.self.inside.operands c.self.inside.waiting c.in-Some.running c.in-Some-at.caller (map actual_form c.args.actuals.now) first second given before in
    let keeps = running_keeps c.self.inside.begun c.self.inside.places.items c.copy_back_behind.new.places c.self.inside.operands c.self.inside.waiting c.in-Some.running first formals in
    let as_many : length c.copy_back_behind.new.places ≡ c.self.inside.places.len = grind arith in
    rw (sym c.self.view_is, with_items_is c.self.inside.places c.copy_back_behind.new.places as_many) (record { given = gets; same = keeps })

pub returns-in_default-at : goal.returns-in_default-at
returns-in_default-at c =
    let none = sym c.in_default-at.is ∙ c.at-in-Some.ensures in
    rw (sym c.self.view_is)
    (record {
      given = no_caller c.self.inside.begun c.self.inside.places.items c.self.inside.operands _ c.self.inside.waiting none;
      same = refl;
    })
