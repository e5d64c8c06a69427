-- The runner's run, turn by turn, up to its end or to the limit of statements.

use Rattle.std.proofs.Common.{◌≡◌, ◌⊎◌, inl, inr, ℕ, ℤ, zero, suc, ◌+◌, ◌-◌, ◌<◌, ◌≤◌, Bool, true, false, List, [], ◌∷◌, ◌++◌, append_assoc, append-nil, add-zero, arith, refl, sym, ◌∙◌, ap, subst, Option, None, Result, Ok, Err}
use Rattle.std.specs.Prelude.{IfOk}
use Rattle.std.proofs.lemmas.Grind.{flat_map-append}
use Rattle.std.specs.Io.KnownBytes.{Appends}
use Rattle.ada_program.specs.ProgramForm.{body_forms}
use Rattle.ada_program.specs.declared.program.Program.{Program}
use Rattle.ada_meaning.specs.declared.request.Request.{Request as Asked}
use Rattle.ada_meaning.specs.Event.{Quiet, request_of}
use Rattle.ada_meaning.specs.declared.event.Halt.{Halt}
use Rattle.ada_meaning.specs.declared.event.Halt.TheVariants.{Memory}
use Rattle.ada_meaning.specs.State.{begins}
use Rattle.ada_meaning.specs.Step.{halts, moves, tells, asks, picks}
use Rattle.ada_meaning.specs.Named.{State, Next, next}
use Rattle.ada_meaning.specs.Run.{Event, Choice, settled, grants, takes, Leads, Step, Halts, first_state}
use Rattle.ada_meaning.specs.Chosen.{begun_with, begun, goes_on}
use Rattle.ada_meaning.specs.Ending.{GoesOn, StatesGoOn}
use Rattle.ada_meaning.specs.Pace.{DeclarationsSettle, full_weight, StepsMakeFullyLighter}
use Rattle.ada_untouched.specs.Law.{PastObjectsDoNotMatter, PastObjectsWeighNothing}
use Rattle.ada_untouched.specs.Past.{StatesButForPast}
use Rattle.ada_interpreter.specs.declared.machine.Machine.{Machine}
use Rattle.ada_interpreter.specs.CommonSteps.{GoesQuietly, stays, goes_on as goes_quietly_on}
use Rattle.ada_interpreter.specs.Machine.{Answers, Makes, EndsRun, program_of, state_in, choices_of}
use Rattle.ada_pools.specs.declared.choices.PoolChoices.{PoolChoices}
use Rattle.ada_pools.specs.Runner.{Runner, Request, Grants, Picks, answer_to}
use Rattle.ada_pools.specs.View.{runner_of}
use Rattle.ada_serve.specs.declared.serve.Status.{Status}
use Rattle.ada_serve.specs.declared.serve.Status.TheVariants.{Stopped}
use Rattle.ada_serve.specs.declared.serve.ServeFault.{ServeFault}
use Rattle.ada_serve.specs.Texts.{exceptions_of, stopped_text}
use Rattle.ada_serve.specs.Runner.{RunnerAnswers, RunnerRun, event_text, lines_of, end_text, status_of, HasWritten, StepsOn, EndsIn, BreaksOff, before_it, in_line, in_end, TurnsOn, HasRun, ended, stopped}
use Rattle.ada_serve.specs.Written.{AppendsFront, Writes, Begins, Says, SaysFront}
use Rattle.ada_serve.proofs.Past.{same_state, states_behind, begins_alike, steps_alike, ends_alike, breaks_alike}
use Rattle.ada_serve.proofs.Writing.{appends_none, appends_both}

-- The answers of the runner's choices.
abbrev pub PoolGrants : PoolChoices → Asked → Bool → PoolChoices → Type 0
PoolGrants before asked granted after = Grants (runner_of before) (request_of asked) granted (runner_of after)

abbrev pub PoolPicks : PoolChoices → ℕ → ℕ → PoolChoices → Type 0
PoolPicks before n i after = Picks (runner_of before) i (runner_of after)

-- What a machine's request is answered, the request over names is.
is_answered : (asked : Asked) (request : Request) (before : PoolChoices) (granted : Bool) (after : PoolChoices) → request_of asked ≡ request → PoolGrants before asked granted after → Grants (runner_of before) request granted (runner_of after)
is_answered asked request before granted after same h = subst (λ (r : Request). Grants (runner_of before) r granted (runner_of after)) same h

runners : (coming : Next) (before after : PoolChoices) (choice : Choice) (event : Event) (last : State) → Answers PoolGrants PoolPicks coming before choice after → Leads coming choice event last → RunnerAnswers (runner_of before) coming choice (runner_of after)
runners (halts halt) before after choice event last a l = absurd a
runners (moves e s) before after choice event last a l = ap runner_of a
runners (tells request e s) before after choice event last (told, granted, same, h) l = ap (λ (answer : Bool × Runner). answer.1) (sym (is_answered told request before granted after same h))
runners (asks request answered) before after settled event last a l = absurd l
runners (asks request answered) before after (grants granted) event last (asked, same, h) l =
    let is = sym (is_answered asked request before granted after same h) in (ap (λ (answer : Bool × Runner). grants answer.0) is, ap (λ (answer : Bool × Runner). answer.1) is)
runners (asks request answered) before after (takes i) event last a l = absurd l
runners (picks n taken) before after settled event last a l = absurd l
runners (picks n taken) before after (grants granted) event last a l = absurd l
runners (picks n taken) before after (takes i) event last a l = (ap takes a.0, a.1)

-- What a machine does in one turn.

pub steps_on : (program : Program) (trace : Bool) (s last : State) (before after : PoolChoices) (event : Event) (old new : Option (List ℕ)) → Makes PoolGrants PoolPicks (next program.types.items (body_forms program) s) before event last after → Appends old new (event_text program trace event) → StepsOn program trace (runner_of before) (runner_of after) s last old new
steps_on program trace s last before after event old new m a = record {
  choice = m.choice;
  event = event;
  runners = runners (next program.types.items (body_forms program) s) before after m.choice event last m.answers m.leads;
  step = m.leads;
  line = a;
}

pub breaks_in_line : (program : Program) (trace : Bool) (s last : State) (before after : PoolChoices) (event : Event) (old new : Option (List ℕ)) → Makes PoolGrants PoolPicks (next program.types.items (body_forms program) s) before event last after → AppendsFront old new (event_text program trace event) → BreaksOff program trace (runner_of before) s old new
breaks_in_line program trace s last before after event old new m a =
    in_line m.choice event (runner_of after) last (runners (next program.types.items (body_forms program) s) before after m.choice event last m.answers m.leads) m.leads a

pub breaks_in_end : (program : Program) (trace : Bool) (runner : Runner) (s : State) (halt : Halt) (old new : Option (List ℕ)) → (halt ≡ Memory) ⊎ Halts program s halt → AppendsFront old new (end_text (exceptions_of program) halt) → BreaksOff program trace runner s old new
breaks_in_end program trace runner s halt old new (inl memory) a = before_it (subst (λ (h : Halt). AppendsFront old new (end_text (exceptions_of program) h)) memory a)
breaks_in_end program trace runner s halt old new (inr is) a = in_end halt is a

pub ends_in : (program : Program) (s : State) (halt : Halt) (ending : Status) (old new : Option (List ℕ)) → (halt ≡ Memory) ⊎ Halts program s halt → (halt ≡ Memory → ⊥) → Appends old new (end_text (exceptions_of program) halt) → ending ≡ status_of halt → EndsIn program s old new ending
ends_in program s halt ending old new (inl memory) isnt a e = absurd (isnt memory)
ends_in program s halt ending old new (inr is) isnt a e = record { halt = halt; halts = is; line = a; ends = e }

-- How a machine's run ended.
pub ends_of : {C : Type 0} (before : Machine C) (halt : Halt) (after : Machine C) → EndsRun before halt after → (halt ≡ Memory) ⊎ Halts (program_of before) (state_in before) halt
ends_of before halt after (inl memory) = inl memory
ends_of before halt after (inr is) = inr is.0

-- One turn after another.

written_first : (program : Program) (trace : Bool) (start : Runner) (first s : State) (old : Option (List ℕ)) → s ≡ first → HasWritten program trace start first 0 start s old old
written_first program trace start first s old e = record {
  events = [];
  run = subst (λ (last : State). RunnerRun program start first 0 [] start last) (sym e) begun;
  lines = appends_none old;
}

lines_more : (program : Program) (trace : Bool) (events : List Event) (event : Event) → lines_of program trace (events ++ event ∷ []) ≡ lines_of program trace events ++ event_text program trace event
lines_more program trace events event = flat_map-append (event_text program trace) events (event ∷ []) ∙ ap (λ text. lines_of program trace events ++ text) (append-nil (event_text program trace event))

run_more : (program : Program) (start : Runner) (first s last : State) (statements : ℕ) (runner after : Runner) (events : List Event) (choice : Choice) (event : Event) → RunnerRun program start first statements events runner s → RunnerAnswers runner (next program.types.items (body_forms program) s) choice after → Step program s choice event last → RunnerRun program start first (begun_with (begins s) statements) (events ++ event ∷ []) after last
run_more program start first s last statements runner after events choice event run is step = goes_on statements event s runner choice events run is step refl refl

written_more : (program : Program) (trace : Bool) (start : Runner) (first s last : State) (statements begun_now : ℕ) (runner after : Runner) (old mid new : Option (List ℕ)) → HasWritten program trace start first statements runner s old mid → StepsOn program trace runner after s last mid new → begun_now ≡ begun_with (begins s) statements → HasWritten program trace start first begun_now after last old new
written_more program trace start first s last statements begun_now runner after old mid new h m e = record {
  events = h.events ++ m.event ∷ [];
  run = subst (λ (n : ℕ). RunnerRun program start first n (h.events ++ m.event ∷ []) after last) (sym e) (run_more program start first s last statements runner after h.events m.choice m.event h.run m.runners m.step);
  lines = subst (λ (text : List ℕ). Appends old new text) (sym (lines_more program trace h.events m.event)) (appends_both old mid new (lines_of program trace h.events) (event_text program trace m.event) h.lines m.line);
}

-- No state's run ends for want of memory.
ends_else : (coming : Next) → GoesOn coming → coming ≡ halts Memory → ⊥
ends_else coming goes e = let never : GoesOn (halts Memory) = subst GoesOn e goes in never refl

pub no_memory : StatesGoOn → (program : Program) (s : State) → Halts program s Memory → ⊥
no_memory goes program s e = ends_else (next program.types.items (body_forms program) s) (goes program s) e

-- What comes next is the end, or the runner has a step.
data HasStep (runner : Runner) (coming : Next) : Type 0 where
  halted : (halt : Halt) → coming ≡ halts halt → HasStep runner coming
  steps : (choice : Choice) (event : Event) (after : Runner) (mid : State) → RunnerAnswers runner coming choice after → Leads coming choice event mid → HasStep runner coming

has_step : (runner : Runner) (coming : Next) → GoesOn coming → HasStep runner coming
has_step runner (halts halt) goes = halted halt refl
has_step runner (moves e s) goes = steps settled e runner s refl (refl, refl)
has_step runner (tells request e s) goes = steps settled e (answer_to request runner).1 s refl (refl, refl)
has_step runner (asks request answered) goes = steps (grants (answer_to request runner).0) Quiet (answer_to request runner).1 (answered (answer_to request runner).0) (refl, refl) (refl, refl)
has_step runner (picks n taken) goes = steps (takes 0) Quiet runner (taken 0) (refl, refl) (goes, refl, refl)

-- The text of a run goes on behind what these events write, up to its last line.
record Continues (program : Program) (trace : Bool) (numbers : List ℤ) (limit : ℕ) (start : Runner) (before : List Event) : Type 0 where
  tail : List ℕ
  status : Status
  is : HasRun program trace numbers limit start (lines_of program trace before ++ tail) status

one_before : (program : Program) (trace : Bool) (numbers : List ℤ) (limit : ℕ) (start : Runner) (before : List Event) (event : Event) → Continues program trace numbers limit start (before ++ event ∷ []) → Continues program trace numbers limit start before
one_before program trace numbers limit start before event c =
    let line : List ℕ = event_text program trace event in
    let whole : lines_of program trace (before ++ event ∷ []) ++ c.tail ≡ lines_of program trace before ++ (line ++ c.tail) =
    ap (λ (text : List ℕ). text ++ c.tail) (lines_more program trace before event) ∙ append_assoc (lines_of program trace before) line c.tail in
    record { tail = line ++ c.tail; status = c.status; is = subst (λ (text : List ℕ). HasRun program trace numbers limit start text c.status) whole c.is }

-- A run that has begun so many statements, and comes to this state, goes on.
abbrev GoesOnFrom : Program → (trace : Bool) → (numbers : List ℤ) → (limit : ℕ) (start : Runner) (statements : ℕ) → State → Type 0
GoesOnFrom program trace numbers limit start statements s = (before : List Event) (runner : Runner) → RunnerRun program start (first_state program numbers) statements before runner s → Continues program trace numbers limit start before

-- It goes on where each step that the runner can make goes on.
by_step : StatesGoOn → (program : Program) (trace : Bool) (numbers : List ℤ) (limit : ℕ) (start : Runner) (statements : ℕ) (s : State) → statements ≤ limit → ((choice : Choice) (event : Event) (mid : State) → Step program s choice event mid → GoesOnFrom program trace numbers limit start (begun_with (begins s) statements) mid) → GoesOnFrom program trace numbers limit start statements s
by_step goes program trace numbers limit start statements s within later before runner run =
    elim (has_step runner (next program.types.items (body_forms program) s) (goes program s)) [
      | halted halt is ↦ record { tail = end_text (exceptions_of program) halt; status = status_of halt; is = ended statements before runner s halt within run is refl refl }
      | steps choice event after mid is leads ↦ one_before program trace numbers limit start before event (later choice event mid leads (before ++ event ∷ []) after (run_more program start (first_state program numbers) s mid statements runner after before choice event run is leads))
    ]

-- Each step of a program that begins no statement makes the state lighter.
abbrev pub Lightens : Program → Type 0
Lightens program =
    (s : State) (choice : Choice) (event : Event) (after : State) → begins s ≡ false → Step program s choice event after → full_weight program after < full_weight program s

-- So it is where what operations create in their declarations leads through other operations only so deep.
pub steps_lighten : StepsMakeFullyLighter → (program : Program) → DeclarationsSettle program.types.items (body_forms program) → Lightens program
steps_lighten lighter program settle s choice event after b step = lighter program s choice event after settle b step

-- So it goes on from each state if it does from each that begins a statement, since the steps before it make the state lighter.
up_to_statement : StatesGoOn → (program : Program) → Lightens program → (trace : Bool) (numbers : List ℤ) (limit : ℕ) (start : Runner) (statements : ℕ) → statements ≤ limit → ((s : State) → begins s ≡ true → GoesOnFrom program trace numbers limit start statements s) → (n : ℕ) (s : State) (starts : Bool) → begins s ≡ starts → full_weight program s < n → GoesOnFrom program trace numbers limit start statements s
up_to_statement goes program lightens trace numbers limit start statements within at_statement n s true b lighter = at_statement s b
up_to_statement goes program lightens trace numbers limit start statements within at_statement zero s false b lighter = absurd (omega (arith, lighter))
up_to_statement goes program lightens trace numbers limit start statements within at_statement (suc n) s false b lighter =
    by_step goes program trace numbers limit start statements s within (λ choice event mid step.
    rw b (up_to_statement goes program lightens trace numbers limit start statements within at_statement n mid (begins mid) refl (omega (arith, lighter, lightens s choice event mid b step))))

-- And there it goes on, or is stopped.
goes_on_from : StatesGoOn → (program : Program) → Lightens program → (trace : Bool) (numbers : List ℤ) (limit : ℕ) (start : Runner) (statements left : ℕ) → statements + left ≡ limit → (s : State) → GoesOnFrom program trace numbers limit start statements s
goes_on_from goes program lightens trace numbers limit start statements zero count s =
    up_to_statement goes program lightens trace numbers limit start statements (omega (arith, count)) (λ s b before runner run.
    let all : statements ≡ limit = omega (arith, count) in
    record { tail = stopped_text limit; status = Stopped; is = stopped before runner s (subst (λ (n : ℕ). RunnerRun program start (first_state program numbers) n before runner s) all run) b refl refl }) (suc (full_weight program s)) s (begins s) refl (omega arith)
goes_on_from goes program lightens trace numbers limit start statements (suc left) count s =
    up_to_statement goes program lightens trace numbers limit start statements (omega (arith, count)) (λ s b.
    by_step goes program trace numbers limit start statements s (omega (arith, count)) (λ choice event mid step.
    rw b (goes_on_from goes program lightens trace numbers limit start (statements + 1) left (omega (arith, count)) mid))) (suc (full_weight program s)) s (begins s) refl (omega arith)

-- Where a front of the lines of a run is written, a front of its whole text is.
begins_run : StatesGoOn → (program : Program) → Lightens program → (trace : Bool) (numbers : List ℤ) (limit : ℕ) (start : Runner) (statements : ℕ) (runner : Runner) (s : State) (events : List Event) (front rest : List ℕ) (old new : Option (List ℕ)) → statements ≤ limit → RunnerRun program start (first_state program numbers) statements events runner s → lines_of program trace events ≡ front ++ rest → Appends old new front → Begins (HasRun program trace numbers limit start) old new
begins_run goes program lightens trace numbers limit start statements runner s events front rest old new within run split written =
    let c = goes_on_from goes program lightens trace numbers limit start statements (limit - statements) (omega (arith, within)) s events runner run in
    record {
      text = lines_of program trace events ++ c.tail;
      status = c.status;
      is = c.is;
      written = record { front = front; rest = rest ++ c.tail; split = ap (λ (text : List ℕ). text ++ c.tail) split ∙ append_assoc front rest c.tail; written = written };
    }

-- The lines so far, and a front of what is to follow.
front_more : (lines : List ℕ) (old mid new : Option (List ℕ)) (text : List ℕ) → Appends old mid lines → AppendsFront mid new text → AppendsFront old new (lines ++ text)
front_more lines old mid new text h a = record {
  front = lines ++ a.front;
  rest = a.rest;
  split = ap (λ (later : List ℕ). lines ++ later) a.split ∙ sym (append_assoc lines a.front a.rest);
  written = appends_both old mid new lines a.front h a.written;
}

-- A turn broke off.
broken : StatesGoOn → (program : Program) → Lightens program → (trace : Bool) (numbers : List ℤ) (limit : ℕ) (start : Runner) (statements : ℕ) (runner : Runner) (s : State) (old mid new : Option (List ℕ)) → HasWritten program trace start (first_state program numbers) statements runner s old mid → statements ≤ limit → begun_with (begins s) statements ≤ limit → BreaksOff program trace runner s mid new → Begins (HasRun program trace numbers limit start) old new
broken goes program lightens trace numbers limit start statements runner s old mid new h within later (before_it a) =
    let f = front_more (lines_of program trace h.events) old mid new [] h.lines a in
    begins_run goes program lightens trace numbers limit start statements runner s h.events f.front f.rest old new within h.run (sym (append-nil (lines_of program trace h.events)) ∙ f.split) f.written
broken goes program lightens trace numbers limit start statements runner s old mid new h within later (in_line choice event after last is step a) =
    let f = front_more (lines_of program trace h.events) old mid new (event_text program trace event) h.lines a in
    begins_run goes program lightens trace numbers limit start (begun_with (begins s) statements) after last (h.events ++ event ∷ []) f.front f.rest old new later
    (run_more program start (first_state program numbers) s last statements runner after h.events choice event h.run is step)
    (lines_more program trace h.events event ∙ f.split) f.written
broken goes program lightens trace numbers limit start statements runner s old mid new h within later (in_end halt is a) = record {
  text = lines_of program trace h.events ++ end_text (exceptions_of program) halt;
  status = status_of halt;
  is = ended statements h.events runner s halt within h.run is refl refl;
  written = front_more (lines_of program trace h.events) old mid new (end_text (exceptions_of program) halt) h.lines a;
}

-- The run has ended.
finished : (program : Program) (trace : Bool) (numbers : List ℤ) (limit : ℕ) (start : Runner) (statements : ℕ) (runner : Runner) (s : State) (ending : Status) (old mid new : Option (List ℕ)) → HasWritten program trace start (first_state program numbers) statements runner s old mid → statements ≤ limit → EndsIn program s mid new ending → Says (HasRun program trace numbers limit start) old new ending
finished program trace numbers limit start statements runner s ending old mid new h within e = record {
  text = lines_of program trace h.events ++ end_text (exceptions_of program) e.halt;
  is = ended statements h.events runner s e.halt within h.run e.halts refl e.ends;
  written = appends_both old mid new (lines_of program trace h.events) (end_text (exceptions_of program) e.halt) h.lines e.line;
}

-- The limit has stopped it.
has_stopped : (program : Program) (trace : Bool) (numbers : List ℤ) (limit : ℕ) (start : Runner) (statements : ℕ) (runner : Runner) (s : State) (result : Result Status ServeFault) (old mid new : Option (List ℕ)) → HasWritten program trace start (first_state program numbers) statements runner s old mid → statements ≡ limit → begins s ≡ true → Writes mid new (stopped_text limit) result → IfOk result (λ ending. ending ≡ Stopped) → SaysFront (HasRun program trace numbers limit start) old new result
has_stopped program trace numbers limit start statements runner s (Ok ending) old mid new h all b a e = record {
  text = lines_of program trace h.events ++ stopped_text limit;
  is = stopped h.events runner s (subst (λ (n : ℕ). RunnerRun program start (first_state program numbers) n h.events runner s) all h.run) b refl e;
  written = appends_both old mid new (lines_of program trace h.events) (stopped_text limit) h.lines a;
}
has_stopped program trace numbers limit start statements runner s (Err fault) old mid new h all b a e = inr (record {
  text = lines_of program trace h.events ++ stopped_text limit;
  status = Stopped;
  is = stopped h.events runner s (subst (λ (n : ℕ). RunnerRun program start (first_state program numbers) n h.events runner s) all h.run) b refl refl;
  written = front_more (lines_of program trace h.events) old mid new (stopped_text limit) h.lines a;
})

-- Some steps of the runner's run, and what they write: the run comes to a state that is the same as this one but for past objects.
pub record ComesTo (program : Program) (trace : Bool) (start : Runner) (first : State) (statements : ℕ) (runner : Runner) (t : State) (old new : Option (List ℕ)) : Type 0 where
  pub s : State
  pub alike : StatesButForPast s t
  pub written : HasWritten program trace start first statements runner s old new

comes_more : PastObjectsDoNotMatter → (program : Program) (trace : Bool) (start : Runner) (first t last : State) (statements begun_now : ℕ) (runner after : Runner) (old mid new : Option (List ℕ)) → ComesTo program trace start first statements runner t old mid → StepsOn program trace runner after t last mid new → begun_now ≡ begun_with (begins t) statements → ComesTo program trace start first begun_now after last old new
comes_more past program trace start first t last statements begun_now runner after old mid new h m e =
    let made = steps_alike past program h.s t h.alike trace runner after last mid new m in
    record {
      s = made.mid;
      alike = made.alike;
      written = written_more program trace start first h.s made.mid statements begun_now runner after old mid new h.written made.step (e ∙ ap (λ (starts : Bool). begun_with starts statements) (begins_alike h.s t h.alike));
    }

comes_behind : (program : Program) (trace : Bool) (start : Runner) (first reached last : State) (statements : ℕ) (runner : Runner) (old new : Option (List ℕ)) → ComesTo program trace start first statements runner reached old new → StatesButForPast reached last → ComesTo program trace start first statements runner last old new
comes_behind program trace start first reached last statements runner old new h forgets = record {
  s = h.s;
  alike = states_behind h.s reached last h.alike forgets;
  written = h.written;
}

-- The loop of a run: all statements but those that are left began, and the lines so far are written.
pub record Reaches (program : Program) (trace : Bool) (numbers : List ℤ) (limit : ℕ) (start : Runner) (left : ℕ) (runner : Runner) (t : State) (old new : Option (List ℕ)) : Type 0 where
  pub statements : ℕ
  pub count : statements + left ≡ limit
  pub comes : ComesTo program trace start (first_state program numbers) statements runner t old new

pub reaches_first : (program : Program) (trace : Bool) (numbers : List ℤ) (limit : ℕ) (start runner : Runner) (t : State) (old : Option (List ℕ)) → t ≡ first_state program numbers → runner ≡ start → Reaches program trace numbers limit start limit runner t old old
reaches_first program trace numbers limit start runner t old e same = record {
  statements = 0;
  count = omega arith;
  comes = record {
    s = t;
    alike = same_state t;
    written = subst (λ (r : Runner). HasWritten program trace start (first_state program numbers) 0 r t old old) (sym same) (written_first program trace start (first_state program numbers) t old e);
  };
}

-- A turn in which no statement begins, and one in which one does.
pub reaches_step : PastObjectsDoNotMatter → (program : Program) (trace : Bool) (numbers : List ℤ) (limit : ℕ) (start : Runner) (left : ℕ) (before after : Machine PoolChoices) (old mid new : Option (List ℕ)) → Reaches program trace numbers limit start left (runner_of (choices_of before)) (state_in before) old mid → begins (state_in before) ≡ false → TurnsOn program trace before after mid new (Ok None) → Reaches program trace numbers limit start left (runner_of (choices_of after)) (state_in after) old new
reaches_step past program trace numbers limit start left before after old mid new h b m =
    let first : State = first_state program numbers in
    record {
      statements = h.statements;
      count = h.count;
      comes = comes_behind program trace start first m.reached (state_in after) h.statements (runner_of (choices_of after)) old new
          (comes_more past program trace start first (state_in before) m.reached h.statements h.statements (runner_of (choices_of before)) (runner_of (choices_of after)) old mid new h.comes m.turn (sym (ap (λ (starts : Bool). begun_with starts h.statements) b)))
          m.forgets;
    }

pub reaches_statement : PastObjectsDoNotMatter → (program : Program) (trace : Bool) (numbers : List ℤ) (limit : ℕ) (start : Runner) (left : ℕ) (before after : Machine PoolChoices) (old mid new : Option (List ℕ)) → Reaches program trace numbers limit start left (runner_of (choices_of before)) (state_in before) old mid → begins (state_in before) ≡ true → 0 < left → TurnsOn program trace before after mid new (Ok None) → Reaches program trace numbers limit start (left - 1) (runner_of (choices_of after)) (state_in after) old new
reaches_statement past program trace numbers limit start left before after old mid new h b some m =
    let first : State = first_state program numbers in
    record {
      statements = h.statements + 1;
      count = omega (arith, some, h.count);
      comes = comes_behind program trace start first m.reached (state_in after) (h.statements + 1) (runner_of (choices_of after)) old new
          (comes_more past program trace start first (state_in before) m.reached h.statements (h.statements + 1) (runner_of (choices_of before)) (runner_of (choices_of after)) old mid new h.comes m.turn (sym (ap (λ (starts : Bool). begun_with starts h.statements) b)))
          m.forgets;
    }

-- A turn in which no statement begins makes the state lighter, and what it forgets weighs nothing.
pub turn_lightens : PastObjectsWeighNothing → (program : Program) → Lightens program → (trace : Bool) (before after : Machine PoolChoices) (old new : Option (List ℕ)) → begins (state_in before) ≡ false → TurnsOn program trace before after old new (Ok None) → full_weight program (state_in after) < full_weight program (state_in before)
turn_lightens weighs program lightens trace before after old new b m =
    rw (weighs program m.reached (state_in after) m.forgets) (lightens (state_in before) m.turn.choice m.turn.event m.reached b m.turn.step)

-- A turn that broke off, where a statement may begin if one does.
room : (starts : Bool) (statements left limit : ℕ) → statements + left ≡ limit → begun_with starts 0 ≤ left → begun_with starts statements ≤ limit
room true statements left limit count h = omega (arith, count, h)
room false statements left limit count h = omega (arith, count)

reaches_broken : PastObjectsDoNotMatter → StatesGoOn → (program : Program) → Lightens program → (trace : Bool) (numbers : List ℤ) (limit : ℕ) (start : Runner) (left : ℕ) (runner : Runner) (t : State) (starts : Bool) (old mid new : Option (List ℕ)) → Reaches program trace numbers limit start left runner t old mid → begins t ≡ starts → begun_with starts 0 ≤ left → BreaksOff program trace runner t mid new → Begins (HasRun program trace numbers limit start) old new
reaches_broken past goes program lightens trace numbers limit start left runner t starts old mid new h b some m =
    let same : begins h.comes.s ≡ starts = sym (begins_alike h.comes.s t h.comes.alike) ∙ b in
    let later : begun_with (begins h.comes.s) h.statements ≤ limit = rw same (room starts h.statements left limit h.count some) in
    broken goes program lightens trace numbers limit start h.statements runner h.comes.s old mid new h.comes.written (omega (arith, h.count)) later (breaks_alike past program h.comes.s t h.comes.alike trace runner mid new m)

pub step_broken : PastObjectsDoNotMatter → StatesGoOn → (program : Program) → Lightens program → (trace : Bool) (numbers : List ℤ) (limit : ℕ) (start : Runner) (left : ℕ) (runner : Runner) (t : State) (old mid new : Option (List ℕ)) → Reaches program trace numbers limit start left runner t old mid → begins t ≡ false → BreaksOff program trace runner t mid new → Begins (HasRun program trace numbers limit start) old new
step_broken past goes program lightens trace numbers limit start left runner t old mid new h b m = reaches_broken past goes program lightens trace numbers limit start left runner t false old mid new h b (omega arith) m

pub statement_broken : PastObjectsDoNotMatter → StatesGoOn → (program : Program) → Lightens program → (trace : Bool) (numbers : List ℤ) (limit : ℕ) (start : Runner) (left : ℕ) (runner : Runner) (t : State) (old mid new : Option (List ℕ)) → Reaches program trace numbers limit start left runner t old mid → begins t ≡ true → 0 < left → BreaksOff program trace runner t mid new → Begins (HasRun program trace numbers limit start) old new
statement_broken past goes program lightens trace numbers limit start left runner t old mid new h b some m = reaches_broken past goes program lightens trace numbers limit start left runner t true old mid new h b (omega (arith, some)) m

-- The end, and the limit.
pub reaches_end : PastObjectsDoNotMatter → (program : Program) (trace : Bool) (numbers : List ℤ) (limit : ℕ) (start : Runner) (left : ℕ) (runner : Runner) (t : State) (ending : Status) (old mid new : Option (List ℕ)) → Reaches program trace numbers limit start left runner t old mid → EndsIn program t mid new ending → Says (HasRun program trace numbers limit start) old new ending
reaches_end past program trace numbers limit start left runner t ending old mid new h e = finished program trace numbers limit start h.statements runner h.comes.s ending old mid new h.comes.written (omega (arith, h.count)) (ends_alike past program h.comes.s t h.comes.alike ending mid new e)

pub reaches_limit : (program : Program) (trace : Bool) (numbers : List ℤ) (limit : ℕ) (start : Runner) (left : ℕ) (runner : Runner) (t : State) (result : Result Status ServeFault) (old mid new : Option (List ℕ)) → Reaches program trace numbers limit start left runner t old mid → begins t ≡ true → left ≡ 0 → Writes mid new (stopped_text limit) result → IfOk result (λ ending. ending ≡ Stopped) → SaysFront (HasRun program trace numbers limit start) old new result
reaches_limit program trace numbers limit start left runner t result old mid new h b none a e = has_stopped program trace numbers limit start h.statements runner h.comes.s result old mid new h.comes.written (omega (arith, h.count, none)) (sym (begins_alike h.comes.s t h.comes.alike) ∙ b) a e

-- A quiet step, and quiet steps one after another: nothing is asked, and nothing is written.
quiet_step : PastObjectsDoNotMatter → (program : Program) (trace : Bool) (start : Runner) (first t last : State) (statements begun_now : ℕ) (runner : Runner) (old new : Option (List ℕ)) → ComesTo program trace start first statements runner t old new → next program.types.items (body_forms program) t ≡ moves Quiet last → begun_now ≡ begun_with (begins t) statements → ComesTo program trace start first begun_now runner last old new
quiet_step past program trace start first t last statements begun_now runner old new h is count =
    let made : StepsOn program trace runner runner t last new new = record {
      choice = settled;
      event = Quiet;
      runners = subst (λ (coming : Next). RunnerAnswers runner coming settled runner) (sym is) refl;
      step = subst (λ (coming : Next). Leads coming settled Quiet last) (sym is) (refl, refl);
      line = appends_none new;
    } in
    comes_more past program trace start first t last statements begun_now runner runner old new new h made count

begun_both : (starts : Bool) (n k : ℕ) → n + begun_with starts k ≡ begun_with starts (n + k)
begun_both true n k = omega arith
begun_both false n k = refl

quiet_steps : PastObjectsDoNotMatter → (program : Program) (trace : Bool) (start : Runner) (first t last : State) (statements more : ℕ) (runner : Runner) (old new : Option (List ℕ)) → ComesTo program trace start first statements runner t old new → GoesQuietly program t more last → ComesTo program trace start first (statements + more) runner last old new
quiet_steps past program trace start first t last statements more runner old new h stays =
    subst (λ (n : ℕ). ComesTo program trace start first n runner t old new) (sym (add-zero statements)) h
quiet_steps past program trace start first t last statements more runner old new h (goes_quietly_on counted mid so_far is count) =
    quiet_step past program trace start first mid last (statements + counted) (statements + more) runner old new
    (quiet_steps past program trace start first t mid statements counted runner old new h so_far) is
    (ap (λ (n : ℕ). statements + n) count ∙ begun_both (begins mid) statements counted)

-- Quiet steps in which so many statements begin that these are left.
pub reaches_quietly : PastObjectsDoNotMatter → (program : Program) (trace : Bool) (numbers : List ℤ) (limit : ℕ) (start : Runner) (left after : ℕ) (runner : Runner) (t last : State) (old new : Option (List ℕ)) → Reaches program trace numbers limit start left runner t old new → GoesQuietly program t (left - after) last → after ≤ left → Reaches program trace numbers limit start after runner last old new
reaches_quietly past program trace numbers limit start left after runner t last old new h quiet within = record {
  statements = h.statements + (left - after);
  count = omega (arith, h.count, within);
  comes = quiet_steps past program trace start (first_state program numbers) t last h.statements (left - after) runner old new h.comes quiet;
}

-- A fault between two turns.
pub reaches_fault : StatesGoOn → (program : Program) → Lightens program → (trace : Bool) (numbers : List ℤ) (limit : ℕ) (start : Runner) (left : ℕ) (runner : Runner) (t : State) (old new : Option (List ℕ)) → Reaches program trace numbers limit start left runner t old new → Begins (HasRun program trace numbers limit start) old new
reaches_fault goes program lightens trace numbers limit start left runner t old new h =
    let lines : List ℕ = lines_of program trace h.comes.written.events in
    begins_run goes program lightens trace numbers limit start h.statements runner h.comes.s h.comes.written.events lines [] old new (omega (arith, h.count)) h.comes.written.run (sym (append-nil lines)) h.comes.written.lines
