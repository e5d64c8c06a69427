-- From what is kept of a source to the source, and from the parts of an answer to the answer.

use Rattle.std.proofs.Common.{◌≡◌, ◌≢◌, inl, inr, ℕ, ℤ, ◌<◌, ◌≤◌, arith, Bool, true, false, List, length, take, refl, sym, ◌∙◌, ap, subst, Option, Result, Ok, Err}
use Rattle.std.specs.Prelude.{IfOk, IfErr}
use Rattle.ada_text.specs.declared.limits.TheConstants.{LONGEST_SOURCE}
use Rattle.ada_text.specs.declared.fault.TextFault.TheVariants as text
use Rattle.ada_program.specs.declared.program.Program.{Program}
use Rattle.ada_meaning.specs.declared.event.Halt.{Halt}
use Rattle.ada_meaning.specs.declared.event.Halt.TheVariants as halt
use Rattle.ada_meaning.specs.Safe.{Safe}
use Rattle.ada_meaning.specs.Named.{State}
use Rattle.ada_meaning.specs.Run.{Event, Run, here, run_more, first_state, Halts}
use Rattle.ada_meaning.specs.Chosen.{begun, goes_on}
use Rattle.ada_meaning.specs.Ending.{StatesGoOn}
use Rattle.ada_verdict.specs.declared.fault.Verdict.{Verdict}
use Rattle.ada_verdict.specs.declared.fault.Verdict.TheVariants as verdict
use Rattle.ada_verdict.specs.First.{IsAccepted, IsFirst}
use Rattle.ada_pools.specs.Runner.{Runner}
use Rattle.ada_serve.specs.declared.settings.Options.{Options}
use Rattle.ada_serve.specs.declared.serve.ServeFault.{ServeFault}
use Rattle.ada_serve.specs.declared.serve.ServeFault.TheVariants.{BadInput, InputTooLong, ReadFailed, WriteFailed, NoSuchPool, NoMemory}
use Rattle.ada_serve.specs.declared.serve.Status.{Status}
use Rattle.ada_serve.specs.declared.serve.Status.TheVariants as status
use Rattle.ada_serve.specs.declared.serve.TheConstants.{MOST_KEPT}
use Rattle.ada_serve.specs.Runner.{runner_before, RunnerRun, status_of, HasRun, ended, stopped}
use Rattle.ada_serve.specs.Answer.{refused, accepted, IsRefusal, GivesNumbers, IsRunAnswer, IsProgramAnswer}
use Rattle.ada_serve.specs.Calls.{IsRead, FaultReads, FaultWrites, OnlyWrites, WriterEnds, FaultEnds}
use Rattle.ada_serve.specs.Served.{Serves, PromisesSafe, IsOfInput, FaultGives, InputTurns, SourceCut, HasPools, TellsPools, TellsSizes, unasked}
use Rattle.ada_serve.specs.Written.{SaysFront}
use Rattle.ada_serve.proofs.Reading.{fits}
use Rattle.ada_serve.proofs.Writing.{idle}
use Rattle.ada_serve.proofs.Steps.{no_memory}

too_long : (kept all : List ℕ) → kept ≡ take MOST_KEPT all → length (take MOST_KEPT all) ≡ MOST_KEPT → length kept ≤ LONGEST_SOURCE → ⊥
too_long kept all e long limit = let same : length kept ≡ MOST_KEPT = ap length e ∙ long in absurd (omega (arith, same, limit))

-- what is accepted is the source
pub accepted_of : (kept all : List ℕ) (program : Program) → kept ≡ take MOST_KEPT all → IsAccepted kept program → IsAccepted all program
accepted_of kept all program e a =
    elim (fits MOST_KEPT all) [ inl whole ↦ subst (λ (source : List ℕ). IsAccepted source program) (e ∙ whole) a | inr cut ↦ absurd (too_long kept all e cut.0 a.0.text.spelled.limit) ]

-- a source that is too long has the fault of what is kept of it
first_cut : (kept all : List ℕ) (v : Verdict) → (length kept ≤ LONGEST_SOURCE → ⊥) → MOST_KEPT < length all → IsFirst kept v → IsFirst all v
first_cut kept all (verdict.Text (text.ByteNotAllowed spot)) long longer f = absurd (long f.limit)
first_cut kept all (verdict.Text (text.OpenString spot)) long longer f = absurd (long f.limit)
first_cut kept all (verdict.Text (text.NumberRange spot)) long longer f = absurd (long f.limit)
first_cut kept all (verdict.Text text.SourceTooLong) long longer f = omega (arith, longer)
first_cut kept all (verdict.Text (text.IdentifierForm spot)) long longer f = absurd (long f.limit)
first_cut kept all (verdict.Text text.NoMemory) long longer f = tt
first_cut kept all (verdict.Syntax fault) long longer f = absurd (long f.1.limit)
first_cut kept all (verdict.Names fault) long longer f = absurd (long f.1.spelled.limit)
first_cut kept all (verdict.EarlyRound spot) long longer f = absurd (long f.1.spelled.limit)
first_cut kept all (verdict.Rounds fault) long longer f = absurd (long f.1.text.spelled.limit)
first_cut kept all (verdict.Operations fault) long longer f = absurd (long f.1.text.spelled.limit)
first_cut kept all (verdict.Unused fault) long longer f = absurd (long f.1.text.spelled.limit)
first_cut kept all (verdict.Flow fault) long longer f = absurd (long f.1.text.spelled.limit)

-- the first fault of what is kept is that of the source
pub first_of : (kept all : List ℕ) (v : Verdict) → kept ≡ take MOST_KEPT all → IsFirst kept v → IsFirst all v
first_of kept all v e f =
    elim (fits MOST_KEPT all) [ inl whole ↦ subst (λ (source : List ℕ). IsFirst source v) (e ∙ whole) f | inr cut ↦ first_cut kept all v (too_long kept all e cut.0) cut.1 f ]

-- the answer to a program that is run is what its run on the numbers of its input says
run_answers : (IsInput : List ℕ → Type 0) (program : Program) (trace : Bool) (numbers : List ℤ) (limit : ℕ) (start : Runner) (old new : Option (List ℕ)) (result : Result Status ServeFault) → GivesNumbers IsInput numbers → SaysFront (HasRun program trace numbers limit start) old new result → SaysFront (IsRunAnswer IsInput program trace limit start) old new result
run_answers IsInput program trace numbers limit start old new (Ok ending) given s = record { text = s.text; is = record { numbers = numbers; given = given; run = s.is }; written = s.written }
run_answers IsInput program trace numbers limit start old new (Err fault) given (inl nothing) = inl nothing
run_answers IsInput program trace numbers limit start old new (Err fault) given (inr s) = inr (record { text = s.text; status = s.status; is = record { numbers = numbers; given = given; run = s.is }; written = s.written })

pub answers_run : (IsInput : List ℕ → Type 0) (program other : Program) (numbers : List ℤ) (options : Options) (old new : Option (List ℕ)) (result : Result Status ServeFault) → options.run ≡ true → other ≡ program → GivesNumbers IsInput numbers → SaysFront (HasRun other options.trace numbers options.steps (runner_before other options)) old new result → SaysFront (IsProgramAnswer IsInput program options.run options.trace options.steps (runner_before program options)) old new result
answers_run IsInput program other numbers options old new result e same given h =
    subst (λ (b : Bool). SaysFront (IsProgramAnswer IsInput program b options.trace options.steps (runner_before program options)) old new result) (sym e) (run_answers IsInput program options.trace numbers options.steps (runner_before program options) old new result given (subst (λ (p : Program). SaysFront (HasRun p options.trace numbers options.steps (runner_before p options)) old new result) same h))

-- what only writes has no fault of the input
writes_alone : {W : Type 0} (P : Type 0) (writes : W → Option (List ℕ) → W → Type 0) (first last : W) (fault : ServeFault) → FaultWrites writes first last fault → IsOfInput fault → P
writes_alone P writes first last (BadInput place) o e = absurd o
writes_alone P writes first last InputTooLong o e = absurd o
writes_alone P writes first last ReadFailed o e = absurd o
writes_alone P writes first last WriteFailed o e = absurd e
writes_alone P writes first last NoSuchPool o e = absurd o
writes_alone P writes first last NoMemory o e = absurd e

pub never_asks : {W X : Type 0} (P : Type 0) (writes : W → Option (List ℕ) → W → Type 0) (first last : W) (result : Result X ServeFault) → OnlyWrites writes first last result → IfErr result (λ fault. IsOfInput fault → P)
never_asks P writes first last (Ok x) o = tt
never_asks P writes first last (Err fault) o = writes_alone P writes first last fault o

-- what follows where a run was asked for
pub asks_more : {X : Type 0} (P Q : Type 0) (result : Result X ServeFault) → (P → Q) → IfErr result (λ fault. IsOfInput fault → P) → IfErr result (λ fault. IsOfInput fault → Q)
asks_more P Q (Ok x) f h = tt
asks_more P Q (Err fault) f h = λ e. f (h e)

pub only_ends : {W X : Type 0} (writes : W → Option (List ℕ) → W → Type 0) (first last : W) (result : Result X ServeFault) → OnlyWrites writes first last result → WriterEnds writes first last result
only_ends writes first last (Ok x) o = o
only_ends writes first last (Err (BadInput place)) o = absurd o
only_ends writes first last (Err InputTooLong) o = absurd o
only_ends writes first last (Err ReadFailed) o = absurd o
only_ends writes first last (Err WriteFailed) o = o
only_ends writes first last (Err NoSuchPool) o = absurd o
only_ends writes first last (Err NoMemory) o = o

-- where a reader's fault is answered nothing was written
pub unwritten : {R W : Type 0} (reads : R → Option (List ℕ) → R → Type 0) (writes : W → Option (List ℕ) → W → Type 0) (first last : R) (out : W) (fault : ServeFault) → FaultReads reads first last fault → FaultEnds writes out out fault
unwritten reads writes first last out (BadInput place) f = absurd f
unwritten reads writes first last out InputTooLong f = absurd f
unwritten reads writes first last out ReadFailed f = refl
unwritten reads writes first last out WriteFailed f = absurd f
unwritten reads writes first last out NoSuchPool f = absurd f
unwritten reads writes first last out NoMemory f = idle writes out

-- nor where a fault of the input's numbers is
pub input_unwritten : {I W : Type 0} (remaining : I → Option (List ℕ)) (reads : I → Option (List ℕ) → I → Type 0) (writes : W → Option (List ℕ) → W → Type 0) (first last : I) (out : W) (fault : ServeFault) → FaultGives remaining reads first last fault → FaultEnds writes out out fault
input_unwritten remaining reads writes first last out (BadInput place) f = refl
input_unwritten remaining reads writes first last out InputTooLong f = refl
input_unwritten remaining reads writes first last out ReadFailed f = refl
input_unwritten remaining reads writes first last out WriteFailed f = absurd f
input_unwritten remaining reads writes first last out NoSuchPool f = absurd f
input_unwritten remaining reads writes first last out NoMemory f = idle writes out

-- the source's reading was cut
pub cut : {R I : Type 0} (reads : R → Option (List ℕ) → R → Type 0) (first last : R) (input : I) (fault : ServeFault) → FaultReads reads first last fault → SourceCut reads first last input input (Err fault)
cut reads first last input (BadInput place) f = absurd f
cut reads first last input InputTooLong f = absurd f
cut reads first last input ReadFailed f = (f, refl)
cut reads first last input WriteFailed f = absurd f
cut reads first last input NoSuchPool f = absurd f
cut reads first last input NoMemory f = (f, refl)

-- the input's reading was cut, or it has no numbers
pub input_cut : {I : Type 0} (remaining : I → Option (List ℕ)) (reads : I → Option (List ℕ) → I → Type 0) (first last : I) (fault : ServeFault) → FaultGives remaining reads first last fault → InputTurns remaining reads first last (Err fault)
input_cut remaining reads first last (BadInput place) f = f
input_cut remaining reads first last InputTooLong f = f
input_cut remaining reads first last ReadFailed f = f
input_cut remaining reads first last WriteFailed f = absurd f
input_cut remaining reads first last NoSuchPool f = absurd f
input_cut remaining reads first last NoMemory f = inr f

-- a run is neither accepted nor refused
no_accepted : (halt : Halt) → status.Accepted ≡ status_of halt → ⊥
no_accepted halt.Finished e = cc
no_accepted (halt.Unhandled exception) e = cc
no_accepted (halt.Escaped exception) e = cc
no_accepted (halt.Erroneous why) e = cc
no_accepted halt.Stuck e = cc
no_accepted halt.Memory e = cc

no_refused : (halt : Halt) → status.Refused ≡ status_of halt → ⊥
no_refused halt.Finished e = cc
no_refused (halt.Unhandled exception) e = cc
no_refused (halt.Escaped exception) e = cc
no_refused (halt.Erroneous why) e = cc
no_refused halt.Stuck e = cc
no_refused halt.Memory e = cc

run_accepted : (program : Program) (trace : Bool) (numbers : List ℤ) (limit : ℕ) (start : Runner) (text : List ℕ) → HasRun program trace numbers limit start text status.Accepted → ⊥
run_accepted program trace numbers limit start text (ended statements events runner last halt within run halts is e) = no_accepted halt e
run_accepted program trace numbers limit start text (stopped events runner last run starts is e) = absurd (cc)

run_refused : (program : Program) (trace : Bool) (numbers : List ℤ) (limit : ℕ) (start : Runner) (text : List ℕ) → HasRun program trace numbers limit start text status.Refused → ⊥
run_refused program trace numbers limit start text (ended statements events runner last halt within run halts is e) = no_refused halt e
run_refused program trace numbers limit start text (stopped events runner last run starts is e) = absurd (cc)

-- the input of a source that is run is read, and gives the numbers
pub input_read : {I W : Type 0} (remaining : I → Option (List ℕ)) (reads : I → Option (List ℕ) → I → Type 0) (writes : W → Option (List ℕ) → W → Type 0) (first last : I) (before after : W) (program : Program) (trace : Bool) (numbers : List ℤ) (limit : ℕ) (start : Runner) (old new : Option (List ℕ)) (result : Result Status ServeFault) → GivesNumbers (IsRead remaining reads first last) numbers → SaysFront (HasRun program trace numbers limit start) old new result → OnlyWrites writes before after result → InputTurns remaining reads first last result
input_read remaining reads writes first last before after program trace numbers limit start old new (Ok status.Accepted) g s o = absurd (run_accepted program trace numbers limit start s.text s.is)
input_read remaining reads writes first last before after program trace numbers limit start old new (Ok status.Refused) g s o = absurd (run_refused program trace numbers limit start s.text s.is)
input_read remaining reads writes first last before after program trace numbers limit start old new (Ok status.Finished) g s o = (numbers, g)
input_read remaining reads writes first last before after program trace numbers limit start old new (Ok status.Unhandled) g s o = (numbers, g)
input_read remaining reads writes first last before after program trace numbers limit start old new (Ok status.Stopped) g s o = (numbers, g)
input_read remaining reads writes first last before after program trace numbers limit start old new (Ok status.Erroneous) g s o = (numbers, g)
input_read remaining reads writes first last before after program trace numbers limit start old new (Err (BadInput place)) g s o = absurd o
input_read remaining reads writes first last before after program trace numbers limit start old new (Err InputTooLong) g s o = absurd o
input_read remaining reads writes first last before after program trace numbers limit start old new (Err ReadFailed) g s o = absurd o
input_read remaining reads writes first last before after program trace numbers limit start old new (Err WriteFailed) g s o = inr (numbers, g)
input_read remaining reads writes first last before after program trace numbers limit start old new (Err NoSuchPool) g s o = absurd o
input_read remaining reads writes first last before after program trace numbers limit start old new (Err NoMemory) g s o = inr (inr (g.bytes, g.input))

-- the input of a source that is refused is not called
pub input_left : {I W : Type 0} (remaining : I → Option (List ℕ)) (reads : I → Option (List ℕ) → I → Type 0) (writes : W → Option (List ℕ) → W → Type 0) (input : I) (before after : W) (v : Verdict) (old new : Option (List ℕ)) (result : Result Status ServeFault) → SaysFront (IsRefusal v) old new result → OnlyWrites writes before after result → InputTurns remaining reads input input result
input_left remaining reads writes input before after v old new (Ok ending) s o = subst (λ (found : Status). InputTurns remaining reads input input (Ok found)) (sym s.is.ends) refl
input_left remaining reads writes input before after v old new (Err (BadInput place)) s o = absurd o
input_left remaining reads writes input before after v old new (Err InputTooLong) s o = absurd o
input_left remaining reads writes input before after v old new (Err ReadFailed) s o = absurd o
input_left remaining reads writes input before after v old new (Err WriteFailed) s o = inl refl
input_left remaining reads writes input before after v old new (Err NoSuchPool) s o = absurd o
input_left remaining reads writes input before after v old new (Err NoMemory) s o = inl refl

-- the answer to a source that is accepted, and to one that is refused
pub serves_accepted : (IsSource IsInput : List ℕ → Type 0) (bytes : List ℕ) (program : Program) (options : Options) (old new : Option (List ℕ)) (result : Result Status ServeFault) → IsSource bytes → IsAccepted bytes program → SaysFront (IsProgramAnswer IsInput program options.run options.trace options.steps (runner_before program options)) old new result → Serves IsSource IsInput options old new result
serves_accepted IsSource IsInput bytes program options old new (Ok ending) r a s = (bytes, r, record { text = s.text; is = accepted program a s.is; written = s.written })
serves_accepted IsSource IsInput bytes program options old new (Err fault) r a (inl nothing) = inl nothing
serves_accepted IsSource IsInput bytes program options old new (Err fault) r a (inr s) = inr (bytes, r, record { text = s.text; status = s.status; is = accepted program a s.is; written = s.written })

pub serves_refused : (IsSource IsInput : List ℕ → Type 0) (bytes : List ℕ) (v : Verdict) (options : Options) (old new : Option (List ℕ)) (result : Result Status ServeFault) → IsSource bytes → IsFirst bytes v → SaysFront (IsRefusal v) old new result → Serves IsSource IsInput options old new result
serves_refused IsSource IsInput bytes v options old new (Ok ending) r f s = (bytes, r, record { text = s.text; is = refused v f s.is; written = s.written })
serves_refused IsSource IsInput bytes v options old new (Err fault) r f (inl nothing) = inl nothing
serves_refused IsSource IsInput bytes v options old new (Err fault) r f (inr s) = inr (bytes, r, record { text = s.text; status = s.status; is = refused v f s.is; written = s.written })

-- the runner's run is a run
is_run : {program : Program} {start : Runner} {first last : State} {statements : ℕ} {runner : Runner} {events : List Event} → RunnerRun program start first statements events runner last → Run program first events last
is_run begun = here
is_run {program = program} {first = first} {last = last} (goes_on before_it event mid before choice so_far run is step e count) = subst (λ (all : List Event). Run program first all last) (sym e) (run_more event choice last (is_run run) step)

-- a run of a safe program does not end as erroneous
halted : StatesGoOn → (program : Program) (numbers : List ℤ) (events : List Event) (last : State) (halt : Halt) → Safe program → Run program (first_state program numbers) events last → Halts program last halt → status.Erroneous ≡ status_of halt → ⊥
halted goes program numbers events last halt.Finished safe run ends e = cc
halted goes program numbers events last (halt.Unhandled exception) safe run ends e = cc
halted goes program numbers events last (halt.Escaped exception) safe run ends e = safe.nothing_escapes numbers events last exception run ends
halted goes program numbers events last (halt.Erroneous why) safe run ends e = safe.never_erroneous numbers events last why run ends
halted goes program numbers events last halt.Stuck safe run ends e = safe.never_stuck numbers events last run ends
halted goes program numbers events last halt.Memory safe run ends e = no_memory goes program last ends

run_erroneous : StatesGoOn → (program : Program) (trace : Bool) (numbers : List ℤ) (limit : ℕ) (start : Runner) (text : List ℕ) → Safe program → HasRun program trace numbers limit start text status.Erroneous → ⊥
run_erroneous goes program trace numbers limit start text safe (ended statements events runner last halt within run halts is e) = halted goes program numbers events last halt safe (is_run run) halts e
run_erroneous goes program trace numbers limit start text safe (stopped events runner last run starts is e) = absurd (cc)

never_erroneous : StatesGoOn → (IsInput : List ℕ → Type 0) (program : Program) (run trace : Bool) (limit : ℕ) (start : Runner) (text : List ℕ) (ending : Status) → Safe program → IsProgramAnswer IsInput program run trace limit start text ending → ending ≢ status.Erroneous
never_erroneous goes IsInput program false trace limit start text ending safe a e = let never : status.Accepted ≡ status.Erroneous = sym a.1 ∙ e in absurd (cc)
never_erroneous goes IsInput program true trace limit start text ending safe a e = run_erroneous goes program trace a.numbers limit start text safe (subst (HasRun program trace a.numbers limit start text) e a.run)

pub answer_not_erroneous : StatesGoOn → (IsInput : List ℕ → Type 0) (program : Program) (run trace : Bool) (limit : ℕ) (start : Runner) (old new : Option (List ℕ)) (result : Result Status ServeFault) → Safe program → SaysFront (IsProgramAnswer IsInput program run trace limit start) old new result → IfOk result (λ ending. ending ≢ status.Erroneous)
answer_not_erroneous goes IsInput program run trace limit start old new (Ok ending) safe s = never_erroneous goes IsInput program run trace limit start s.text ending safe s.is
answer_not_erroneous goes IsInput program run trace limit start old new (Err fault) safe s = tt

-- a source that is accepted is safe
pub promises_accepted : (IsSource : List ℕ → Type 0) (bytes : List ℕ) (program : Program) (result : Result Status ServeFault) → IsSource bytes → IsAccepted bytes program → Safe program → PromisesSafe IsSource result
promises_accepted IsSource bytes program (Ok status.Accepted) r a safe = record { bytes = bytes; program = program; source = r; accepted = a; safe = safe }
promises_accepted IsSource bytes program (Ok status.Refused) r a safe = tt
promises_accepted IsSource bytes program (Ok status.Finished) r a safe = record { bytes = bytes; program = program; source = r; accepted = a; safe = safe }
promises_accepted IsSource bytes program (Ok status.Unhandled) r a safe = record { bytes = bytes; program = program; source = r; accepted = a; safe = safe }
promises_accepted IsSource bytes program (Ok status.Stopped) r a safe = record { bytes = bytes; program = program; source = r; accepted = a; safe = safe }
promises_accepted IsSource bytes program (Ok status.Erroneous) r a safe = record { bytes = bytes; program = program; source = r; accepted = a; safe = safe }
promises_accepted IsSource bytes program (Err fault) r a safe = tt

pub promises_refused : (IsSource : List ℕ → Type 0) (v : Verdict) (old new : Option (List ℕ)) (result : Result Status ServeFault) → SaysFront (IsRefusal v) old new result → PromisesSafe IsSource result
promises_refused IsSource v old new (Ok ending) s = subst (λ (found : Status). PromisesSafe IsSource (Ok found)) (sym s.is.ends) tt
promises_refused IsSource v old new (Err fault) s = tt

pub refusal_not_erroneous : (v : Verdict) (old new : Option (List ℕ)) (result : Result Status ServeFault) → SaysFront (IsRefusal v) old new result → IfOk result (λ ending. ending ≢ status.Erroneous)
refusal_not_erroneous v old new (Ok ending) s = λ e. let never : status.Refused ≡ status.Erroneous = sym s.is.ends ∙ e in absurd (cc)
refusal_not_erroneous v old new (Err fault) s = tt

-- what only writes tells of no pool, and each size is for one
pub tells_pools : {W : Type 0} (program : Program) (options : Options) (writes : W → Option (List ℕ) → W → Type 0) (first last : W) (result : Result Status ServeFault) → HasPools program options → OnlyWrites writes first last result → TellsPools program options result
tells_pools program options writes first last (Ok status) has o = has
tells_pools program options writes first last (Err (BadInput place)) has o = has
tells_pools program options writes first last (Err InputTooLong) has o = has
tells_pools program options writes first last (Err ReadFailed) has o = has
tells_pools program options writes first last (Err WriteFailed) has o = has
tells_pools program options writes first last (Err NoSuchPool) has o = absurd o
tells_pools program options writes first last (Err NoMemory) has o = tt

-- nor does a fault of reading the numbers
pub pools_of_input : {I : Type 0} (program : Program) (options : Options) (remaining : I → Option (List ℕ)) (reads : I → Option (List ℕ) → I → Type 0) (first last : I) (fault : ServeFault) → HasPools program options → FaultGives remaining reads first last fault → TellsPools program options (Err fault)
pools_of_input program options remaining reads first last (BadInput place) has f = has
pools_of_input program options remaining reads first last InputTooLong has f = has
pools_of_input program options remaining reads first last ReadFailed has f = has
pools_of_input program options remaining reads first last WriteFailed has f = has
pools_of_input program options remaining reads first last NoSuchPool has f = absurd f
pools_of_input program options remaining reads first last NoMemory has f = tt

-- a refusal is no missing pool
not_written : {W : Type 0} (writes : W → Option (List ℕ) → W → Type 0) (first last : W) (result : Result Status ServeFault) → OnlyWrites writes first last result → result ≢ Err NoSuchPool
not_written writes first last (Ok status) o e = absurd (cc e)
not_written writes first last (Err (BadInput place)) o e = absurd o
not_written writes first last (Err InputTooLong) o e = absurd o
not_written writes first last (Err ReadFailed) o e = absurd o
not_written writes first last (Err WriteFailed) o e = absurd (cc e)
not_written writes first last (Err NoSuchPool) o e = absurd o
not_written writes first last (Err NoMemory) o e = absurd (cc e)

pub sizes_unasked : {W : Type 0} (bytes : List ℕ) (v : Verdict) (options : Options) (writes : W → Option (List ℕ) → W → Type 0) (first last : W) (result : Result Status ServeFault) → IsFirst bytes v → OnlyWrites writes first last result → TellsSizes bytes options result
sizes_unasked bytes v options writes first last result f o = unasked v f (not_written writes first last result o)
