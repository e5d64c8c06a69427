use Rattle.std.proofs.Common.{arith, ◌≡◌, ◌<◌, ◌+◌, ℕ, List, [], ◌++◌, length, take, refl, ap, subst, Some}
use Rattle.std.specs.Io.KnownBytes.{Consumes}
use Rattle.std.proofs.lemmas.Result.{err_from_is_err_and}
use Rattle.ada_serve.specs.declared.serve.TheConstants.{MOST_CALLS, MOST_KEPT}
use Rattle.ada_serve.specs.Calls.{InCalls, none, more, fails, goes_on}
use Rattle.ada_serve.proofs.Reading.{consumes_both, consumes_none, all_given, kept_more}
use Rattle.ada_serve.proofs.Writing.{taken_some}
use Rattle.ada_serve.proofs.serve.read_all.Goals as goal

pub loop-call-init : goal.loop-call-init
loop-call-init g c = ([], none, consumes_none (g.R.ByteReader.remaining c.args.reader.now), c.new-kept.ensures.items)

pub loop-call-preserved : goal.loop-call-preserved
loop-call-preserved g c =
    let bytes = c.loop-call.invariant.0 in
    let given : List ℕ = take c.in_ok-count.count c.read.new.buffer in (
      bytes ++ given,
      more c.loop-call._call bytes given c.loop-call.reader c.loop-call.invariant.1 (taken_some c.in_ok-count.count c.read.new.buffer c.if-count-eq0.false c.in_ok-count.ensures.bound.0) c.in_ok-count.ensures.call refl refl,
      consumes_both (g.R.ByteReader.remaining c.args.reader.now) (g.R.ByteReader.remaining c.loop-call.reader) (g.R.ByteReader.remaining c.read.new.self) bytes given c.loop-call.invariant.2 c.in_ok-count.ensures.bytes.0,
      kept_more MOST_KEPT c.loop-call.kept.items bytes given c.keep.new.kept.items c.loop-call.invariant.3 c.in_ok-keep.ensures,
    )

pub returns-in_err-count-clause-faults : goal.returns-in_err-count-clause-faults
returns-in_err-count-clause-faults g c =
    let p = err_from_is_err_and c.from_residual.result c.from_residual.ensures.1 in
    rw (p.1, p.2) (fails c.loop-call._call c.loop-call.invariant.0 c.loop-call.reader c.loop-call.invariant.1 (omega arith) c.in_err-count.ensures.call)

pub returns-then-count-eq0-clause-kept : goal.returns-then-count-eq0-clause-kept
returns-then-count-eq0-clause-kept g c =
    let bytes = c.loop-call.invariant.0 in
    let long : 0 < length c.read.new.buffer = omega arith in
    let none_given : take c.in_ok-count.count c.read.new.buffer ≡ [] = ap (λ (n : ℕ). take n c.read.new.buffer) c.if-count-eq0.true in
    record {
      bytes = bytes;
      read = record {
        calls = c.loop-call._call;
        mid = c.loop-call.reader;
        gave = c.loop-call.invariant.1;
        within = omega arith;
        ends = subst (λ (given : List ℕ). g.R.ByteReader.reads c.loop-call.reader (Some given) c.read.new.self) none_given c.in_ok-count.ensures.call;
        whole = all_given (g.R.ByteReader.remaining c.args.reader.now) (g.R.ByteReader.remaining c.loop-call.reader) (g.R.ByteReader.remaining c.read.new.self) bytes c.loop-call.invariant.2
            (subst (λ (given : List ℕ). Consumes (g.R.ByteReader.remaining c.loop-call.reader) (g.R.ByteReader.remaining c.read.new.self) given) none_given c.in_ok-count.ensures.bytes.0)
            (c.in_ok-count.ensures.bytes.1 c.if-count-eq0.true long);
      };
      front = c.loop-call.invariant.3;
    }

pub returns-in_err-keep-clause-faults : goal.returns-in_err-keep-clause-faults
returns-in_err-keep-clause-faults g c =
    let given : List ℕ = take c.in_ok-count.count c.read.new.buffer in
    let p = err_from_is_err_and c.from_residual-in_err-keep.result c.from_residual-in_err-keep.ensures.1 in
    rw (p.1, p.2) (record {
      calls = c.loop-call._call + 1;
      bytes = c.loop-call.invariant.0 ++ given;
      gave = more c.loop-call._call c.loop-call.invariant.0 given c.loop-call.reader c.loop-call.invariant.1 (taken_some c.in_ok-count.count c.read.new.buffer c.if-count-eq0.false c.in_ok-count.ensures.bound.0) c.in_ok-count.ensures.call refl refl;
      within = omega arith;
    })

pub returns-clause-faults : goal.returns-clause-faults
returns-clause-faults g c =
    let most : c.loop-call._call ≡ MOST_CALLS = omega arith in
    goes_on c.loop-call.invariant.0 (subst (λ (n : ℕ). InCalls g.R.ByteReader.reads c.args.reader.now n c.loop-call.invariant.0 c.loop-call.reader) most c.loop-call.invariant.1)
