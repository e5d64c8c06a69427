use Rattle.std.proofs.Common.{◌≡◌, ℕ, List, sym, subst, arith}
use Rattle.std.proofs.lemmas.Bool.{eqb-true}
use Rattle.std.specs.Prelude.{vec_len}
use Rattle.std.specs.List.{Contains}
use Rattle.ada_effects.specs.Found.{has_number}
use Rattle.ada_flow.proofs.Parts.{row_is, empty_row}
use Rattle.ada_program.specs.Kept.{types_in}
use Rattle.ada_reach.specs.Graph.{IsReached}
use Rattle.ada_flow.proofs.reached.row.Goals as goal

pub returns-then-is_empty : goal.returns-then-is_empty
returns-then-is_empty c =
    let starts = c.in_ok-starts.starts in
    let none : vec_len starts ≡ 0 = eqb-true (vec_len starts) 0 (sym c.if-is_empty.ensures) in
    empty_row (types_in c.args.types.now) (has_number c.args.accesses.now) starts.items c.new.result.items (omega (arith, none, starts.ok.0)) c.new.ensures.items
    c.in_ok-starts.ensures.all c.in_ok-starts.ensures.only

pub returns : goal.returns
returns c =
    let types = types_in c.args.types.now in
    let may = has_number c.args.accesses.now in
    let starts = c.in_ok-starts in
    let same = c.deref.ensures.value in
    row_is types may c.deref.result.now c.in_ok-marks.marks.items
    (λ w h. subst (λ (xs : List ℕ). Contains xs w) (sym same) (starts.ensures.all w h))
    (λ w h. starts.ensures.only w (subst (λ (xs : List ℕ). Contains xs w) same h))
    (λ n h. c.in_ok-marks.ensures.marks n (subst (λ (g : List (List ℕ)). IsReached g c.deref.result.now n) (sym c.requires) h))
    (λ n h. subst (λ (g : List (List ℕ)). IsReached g c.deref.result.now n) c.requires (c.in_ok-marks.ensures.only n h))
