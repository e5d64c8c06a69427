use Rattle.std.proofs.Common.{◌≡◌, Bool, true, List, map, refl, ap, ◌∙◌}
use Rattle.std.specs.Global.{Vec}
use Rattle.std.specs.Prelude.{Result, Ok, Err, IfOk}
use Rattle.ada_program.specs.declared.program.TypeDefinition.{TypeDefinition}
use Rattle.ada_program.specs.Kept.{types_in}
use Rattle.ada_program.specs.ProgramForm.{BodyForm, ProgramForm, program_form}
use Rattle.ada_quiet.specs.Apart.{leave_access}
use Rattle.ada_quiet.specs.Calm.{unadjusted_types, unfinalized_types}
use Rattle.ada_quiet.specs.Frugal.{Thrift, is_frugal_body, frugal_operations, thrift_of}
use Rattle.ada_quiet.proofs.FrugalAt.{tests_alike, thrift_alike}
use Rattle.ada_quiet.proofs.frugal.frugal_operations.Goals as goal

-- what is told by the marks is told by the collections that they are made from
by_marks : {E : Type 0} (found : Result (Vec Bool) E) (p : ProgramForm) (thrift : Thrift)
    → ((b : BodyForm) → is_frugal_body thrift b ≡ is_frugal_body (thrift_of p) b)
    → IfOk found (λ frugal. frugal.items ≡ map (is_frugal_body thrift) p.bodies) → IfOk found (λ frugal. frugal.items ≡ frugal_operations p)
by_marks (Ok frugal) p thrift same is = is ∙ tests_alike (is_frugal_body thrift) (is_frugal_body (thrift_of p)) same p.bodies
by_marks (Err e) p thrift same is = is

pub returns : goal.returns
returns c =
    let p = program_form c.args.program.now in
    let procedures = c.deref-9.ensures.value ∙ c.in_ok-procedures.ensures in
    let unadjusted = c.deref-7.ensures.value ∙ c.in_ok-unadjusted.ensures ∙ ap (λ (ts : List TypeDefinition). unadjusted_types (types_in ts)) c.deref.ensures.value in
    let unfinalized = c.deref-8.ensures.value ∙ c.in_ok-unfinalized.ensures ∙ ap (λ (ts : List TypeDefinition). unfinalized_types (types_in ts)) c.deref-2.ensures.value in
    let untracked = c.leave_access-untracked.ensures ∙ ap (λ (ts : List TypeDefinition). leave_access (types_in ts)) c.deref-3.ensures.value in
    let thrift : Thrift = record {
      types = types_in c.deref-6.result.now;
      unadjusted = c.deref-7.result.now;
      unfinalized = c.deref-8.result.now;
      untracked = c.leave_access-untracked.result;
      procedures = c.deref-9.result.now;
      operation = true;
      formals = 1;
    } in
    by_marks c.are_frugal_bodies.result p thrift
    (thrift_alike thrift (thrift_of p) (ap (λ (ts : List TypeDefinition). types_in ts) c.deref-6.ensures.value) unadjusted unfinalized untracked procedures refl refl)
    c.are_frugal_bodies.ensures
