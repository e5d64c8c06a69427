use Rattle.std.proofs.Common.{◌≡◌, ◌<◌, ◌≤◌, ℕ, List, length, subst, arith, Ok}
use Rattle.std.proofs.lemmas.Result.{err_from_is_err_and}
use Rattle.ada_input.specs.Input.{input_of, IsFaultOf}
use Rattle.ada_serve.specs.declared.serve.TheConstants.{LONGEST_INPUT}
use Rattle.ada_serve.proofs.Inputs.{too_long, gives, words_fault, reading_fault}
use Rattle.ada_serve.proofs.serve.read_numbers.Goals as goal

pub returns-then-len-gt-LONGEST_INPUT-clause-faults : goal.returns-then-len-gt-LONGEST_INPUT-clause-faults
returns-then-len-gt-LONGEST_INPUT-clause-faults g c =
    let long : LONGEST_INPUT < length c.in_ok-bytes.bytes.items = omega arith in
    too_long g.I.ByteReader.remaining g.I.ByteReader.reads c.args.input.now c.read_all.new.reader c.in_ok-bytes.bytes.items c.in_ok-bytes.ensures.kept long

pub returns-in_err-numbers-clause-faults : goal.returns-in_err-numbers-clause-faults
returns-in_err-numbers-clause-faults g c =
    let within : length c.in_ok-bytes.bytes.items ≤ LONGEST_INPUT = omega arith in
    let is : IsFaultOf c.in_ok-bytes.bytes.items c.in_err-numbers.field-0.0 =
    subst (λ (bytes : List ℕ). IsFaultOf bytes c.in_err-numbers.field-0.0) c.deref.ensures.value c.in_err-numbers.ensures.fault in
    let p = err_from_is_err_and c.from_residual-in_err-numbers.result c.from_residual-in_err-numbers.ensures.1 in
    rw (p.1, p.2) (words_fault g.I.ByteReader.remaining g.I.ByteReader.reads c.args.input.now c.read_all.new.reader c.in_ok-bytes.bytes.items c.in_err-numbers.field-0.0 c.in_ok-bytes.ensures.kept within is)

pub returns-in_err-bytes-clause-faults : goal.returns-in_err-bytes-clause-faults
returns-in_err-bytes-clause-faults g c =
    let p = err_from_is_err_and c.from_residual.result c.from_residual.ensures.1 in
    rw (p.1, p.2) (reading_fault g.I.ByteReader.remaining g.I.ByteReader.reads c.args.input.now c.read_all.new.reader c.in_err-bytes.field-0.0 c.in_err-bytes.ensures.faults)

pub returns-clause-numbers : goal.returns-clause-numbers
returns-clause-numbers g c =
    let within : length c.in_ok-bytes.bytes.items ≤ LONGEST_INPUT = omega arith in
    let are : input_of c.in_ok-bytes.bytes.items ≡ Ok c.in_ok-numbers.field-0.items =
    subst (λ (bytes : List ℕ). input_of bytes ≡ Ok c.in_ok-numbers.field-0.items) c.deref.ensures.value c.in_ok-numbers.ensures.numbers in
    gives g.I.ByteReader.remaining g.I.ByteReader.reads c.args.input.now c.read_all.new.reader c.in_ok-bytes.bytes.items c.in_ok-numbers.field-0.items c.in_ok-bytes.ensures.kept within are
