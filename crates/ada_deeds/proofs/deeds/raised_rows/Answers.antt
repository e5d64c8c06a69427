use Rattle.std.proofs.Common.{ℕ, List, Bool, length, ap, arith}
use Rattle.std.proofs.lemmas.List.{length_push}
use Rattle.ada_deeds.specs.Graph.{MarksDoers}
use Rattle.ada_deeds.specs.declared.deed.Deed.TheVariants as deed
use Rattle.ada_deeds.proofs.Exact.{row_more}
use Rattle.ada_program.specs.declared.program.Exception.TheVariants.{Declared}
use Rattle.ada_program.specs.ProgramForm.{program_form}
use Rattle.ada_deeds.proofs.deeds.raised_rows.Goals as goal

-- one exception more has its marks
pub numbers-preserved : goal.numbers-preserved
numbers-preserved c =
    let p = program_form c.args.program.now in
    let i = c.numbers.invariant in
    let e = c.in_ok-push.ensures.items in
    let P : ℕ → List Bool → Type 0 = λ n marks. MarksDoers p (deed.Raises (Declared (record { 0 = n }))) c.args.nodes.procedures c.args.nodes.types marks in
    record {
      size = let l = ap length e in let n = length_push c.numbers.rows.items c.in_ok-row.row in let s = i.size in omega (arith, l, n, s);
      rows = row_more P c.numbers.number c.numbers.rows.items c.push.new.self.items c.in_ok-row.row i.size e i.rows c.in_ok-row.ensures;
    }
