use Rattle.std.proofs.Common.{◌≡◌, ℕ, length, map, subst, arith}
use Rattle.std.specs.Prelude.{None}
use Rattle.std.proofs.lemmas.List.{length-map}
use Rattle.ada_operations.specs.View.{IsLast, IsUsedAt}
use Rattle.ada_operations.proofs.Using.{nothing_late, late_marked}
use Rattle.ada_program.specs.ProgramForm.{program_form, type_form}
use Rattle.ada_operations.proofs.late.uses_too_late.Goals as goal

pub returns-in-None : goal.returns-in-None
returns-in-None c =
    let p = c.args.program.now in
    let size : c.len.result ≡ length (map type_form p.types.items) = omega (arith, c.len.ensures, p.types.ok.0, length-map p.types.items type_form) in
    let none = subst (λ (n : ℕ). IsLast (IsUsedAt c.args.facts.now c.args.procedure n) None) size c.in-None.ensures in
    (λ h. absurd (cc h), λ h. absurd (nothing_late (program_form p) c.args.facts.now c.requires.facts c.args.procedure c.args.record_type none h))

pub returns-in_ok-marks-in-Some : goal.returns-in_ok-marks-in-Some
returns-in_ok-marks-in-Some c =
    let p = c.args.program.now in
    let begun = c.in_ok-begun-in-Some in
    let marks = c.in_ok-marks-in-Some in
    let size : c.len.result ≡ length p.types.items = omega (arith, c.len.ensures, p.types.ok.0) in
    late_marked p c.args.facts.now c.requires.facts c.args.procedure c.args.record_type c.requires.record c.in-Some.place c.len.result size c.in-Some.ensures
    c.deref.result.now c.deref.ensures.value begun.begun.items c.deref-in-Some-2.result.now c.deref-in-Some-2.ensures.value begun.ensures.all begun.ensures.only
    c.deref-in-Some.result.now c.deref-in-Some.ensures.value marks.marks.items c.deref-in-Some-3.result.now c.deref-in-Some-3.ensures.value marks.ensures.marks marks.ensures.only
    c.is_marked.result c.is_marked.ensures
