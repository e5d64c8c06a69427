use Rattle.std.proofs.Common.{◌≡◌, ℕ, List, length, sym, ap, ◌∙◌, subst, arith}
use Rattle.std.proofs.lemmas.List.{length_push}
use Rattle.std.proofs.lemmas.Grind.{common_steps}
use Rattle.std.specs.List.{slice_get}
use Rattle.std.specs.Prelude.{Option}
use Rattle.ada_deeds.specs.Implicit.{record_at}
use Rattle.ada_deeds.specs.Rows.{does_in}
use Rattle.ada_deeds.specs.Table.{IsListed}
use Rattle.ada_deeds.proofs.Table.{rows_more, list_here, column_all}
use Rattle.ada_effects.specs.declared.implicit.AccessTypes.{AccessTypes}
use Rattle.ada_effects.specs.Found.{has_number}
use Rattle.ada_program.specs.declared.program.TypeDefinition.{TypeDefinition}
use Rattle.ada_program.specs.Kept.{types_in}
use Rattle.ada_deeds.proofs.deeds.Deeds.column_rows.Goals as goal

-- one type more has its row
pub numbers-preserved : goal.numbers-preserved
numbers-preserved c =
    let does = does_in c.args.self.now in
    let types = c.args.program.now.types.items in
    let i = c.numbers.invariant in
    let n = c.numbers.number in
    let rows = c.numbers.rows.items in
    let row : AccessTypes = record { list = c.in_ok-list.list } in
    let pushed = c.in_ok-push.ensures.items in
    let P : ℕ → Option AccessTypes → Type 0 = λ u x. IsListed (has_number c.args.used.now) does (record_at (types_in types) u) c.args.column x in
    let same_record : c.record_at-record_type.result ≡ record_at (types_in types) n =
    c.record_at-record_type.ensures ∙ ap (λ (ts : List TypeDefinition). record_at (types_in ts) n) c.deref.ensures.value in
    record {
      size = let l = ap length pushed in let m = length_push rows row in let s = i.size in omega (arith, l, m, s);
      rows = λ u lt. subst (λ (xs : List AccessTypes). P u (slice_get xs u)) (sym pushed)
          (rows_more P n rows row i.size i.rows (list_here (has_number c.args.used.now) does c.args.column row same_record c.in_ok-list.ensures) u lt);
    }

-- at last all have
pub returns : goal.returns
returns c =
    let types = c.args.program.now.types.items in
    let i = c.numbers.invariant in
    let le = c.numbers-test.false in
    let same_types : c.len-types.result ≡ length types = grind (arith, common_steps) in
    column_all (has_number c.args.used.now) (does_in c.args.self.now) c.args.column types c.numbers.number c.numbers.rows.items i.size (omega (arith, le, same_types)) i.rows
