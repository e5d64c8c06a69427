use Rattle.std.proofs.Common.{◌≡◌, ℕ, length, ap, ◌∙◌, subst, arith}
use Rattle.std.proofs.lemmas.Grind.{common_steps}
use Rattle.std.specs.List.{slice_get}
use Rattle.std.specs.Prelude.{List}
use Rattle.ada_deeds.specs.Implicit.{record_at}
use Rattle.ada_deeds.specs.Rows.{does_in}
use Rattle.ada_deeds.specs.Table.{raised_among, is_freed_among, is_used_among, IsStart, IsListed}
use Rattle.ada_deeds.specs.declared.implicit.Column.TheVariants as column
use Rattle.ada_deeds.proofs.Table.{table_is}
use Rattle.ada_effects.specs.Found.{has_number}
use Rattle.ada_effects.specs.declared.implicit.Implicit.{Implicit}
use Rattle.ada_program.specs.declared.program.Exception.{Exception}
use Rattle.ada_program.specs.declared.program.TypeNo.{TypeNo}
use Rattle.ada_program.specs.ProgramForm.{program_form}
use Rattle.ada_deeds.proofs.deeds.Deeds.implicit.Goals as goal

-- each column has a row for each type
pub returns : goal.returns
returns c =
    let p = program_form c.args.program.now in
    let deeds = c.args.self.now in
    let does = does_in deeds in
    let i : Implicit = record {
      starts = c.in_ok-starts.starts;
      adjusts = c.in_ok-adjusts.adjusts;
      ends = c.in_ok-ends.ends;
      reached = c.in_ok-reached.reached;
    } in
    let raised = c.in_ok-raised.raised.items in
    let freed = c.in_ok-freed.freed.items in
    let used = c.in_ok-used.used.items in
    let exceptions : c.len.result ≡ length p.exceptions = grind (arith, common_steps) in
    let types : c.len-2.result ≡ length p.types = grind (arith, common_steps) in
    let as_many : c.len-3.result ≡ length p.types = grind (arith, common_steps) in
    table_is deeds p i raised (has_number freed) (has_number used) c.requires
    (c.in_ok-raised.ensures ∙ ap (λ (n : ℕ). raised_among n deeds) exceptions)
    (λ t. c.in_ok-freed.ensures t ∙ ap (λ (n : ℕ). is_freed_among n deeds t) types)
    (λ t. c.in_ok-used.ensures t ∙ ap (λ (n : ℕ). is_used_among n deeds t) as_many)
    (λ u. subst (λ (es : List Exception). IsStart es (has_number freed) does (record_at p.types u) (slice_get i.starts.items u)) c.deref.ensures.value
    (subst (λ (ts : List TypeNo). IsStart c.deref.result.now (has_number ts) does (record_at p.types u) (slice_get i.starts.items u)) c.deref-2.ensures.value (c.in_ok-starts.ensures u)))
    (λ u. subst (λ (ts : List TypeNo). IsListed (has_number ts) does (record_at p.types u) column.Adjusts (slice_get i.adjusts.items u)) c.deref-3.ensures.value (c.in_ok-adjusts.ensures u))
    (λ u. subst (λ (ts : List TypeNo). IsListed (has_number ts) does (record_at p.types u) column.Ends (slice_get i.ends.items u)) c.deref-4.ensures.value (c.in_ok-ends.ensures u))
    (λ u. subst (λ (ts : List TypeNo). IsListed (has_number ts) does (record_at p.types u) column.Reached (slice_get i.reached.items u)) c.deref-5.ensures.value (c.in_ok-reached.ensures u))
