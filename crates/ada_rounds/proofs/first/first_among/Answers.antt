use Rattle.std.proofs.Common.{◌≡◌, ℕ, ◌+◌, List, length, map, sym, ap, ◌∙◌, subst, arith}
use Rattle.std.specs.Prelude.{Option}
use Rattle.std.proofs.lemmas.List.{length-map}
use Rattle.ada_program.specs.declared.program.Finalization.{Finalization}
use Rattle.ada_program.specs.declared.program.TypeDefinition.{TypeDefinition}
use Rattle.ada_program.specs.Kept.{types_in}
use Rattle.ada_program.specs.ProgramForm.{program_form, type_form}
use Rattle.ada_program.specs.WellFormed.{finalization_of}
use Rattle.ada_quiet.specs.First.{IsFirst}
use Rattle.ada_rounds.specs.FirstRound.{HasRoundIn}
use Rattle.ada_rounds.proofs.Asking.{Below, below_more, below_all}
use Rattle.ada_rounds.proofs.first.first_among.Goals as goal

-- that of one type more
pub types-preserved : goal.types-preserved
types-preserved c =
    let p = program_form c.args.program.now in
    let at : c.finalization_of.result ≡ finalization_of p.types c.types.number =
    c.finalization_of.ensures ∙ ap (λ (types : List TypeDefinition). finalization_of (types_in types) c.types.number) c.deref.ensures.value in
    subst (IsFirst (Below p (c.types.number + 1))) (sym c.first_of-first.ensures)
    (below_more p c.types.number c.types.first c.in_ok-found.found c.types.invariant
    (subst (λ (o : Option Finalization). IsFirst (HasRoundIn p o) c.in_ok-found.found) at c.in_ok-found.ensures))

-- behind the last type all are examined
pub returns : goal.returns
returns c =
    let program = c.args.program.now in
    let p = program_form program in
    let size : c.types.number ≡ length (map type_form program.types.items) =
    omega (arith, c.len-number-end.ensures, c.types.auto.number-end, c.types-test.false, program.types.ok.0, length-map program.types.items type_form) in
    below_all p c.types.first (subst (λ (n : ℕ). IsFirst (Below p n) c.types.first) size c.types.invariant)
