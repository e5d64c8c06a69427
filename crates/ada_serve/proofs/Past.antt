-- A turn of the runner from a state that is the same but for past objects: the run itself has the same turn.

use Rattle.std.proofs.Common.{◌≡◌, ◌<◌, inl, inr, ℕ, Bool, List, Option, refl, sym, ◌∙◌, ap, subst}
use Rattle.ada_program.specs.ProgramForm.{body_forms}
use Rattle.ada_program.specs.declared.program.Program.{Program}
use Rattle.ada_meaning.specs.declared.event.Halt.{Halt}
use Rattle.ada_meaning.specs.Event.{Quiet}
use Rattle.ada_meaning.specs.State.{begins}
use Rattle.ada_meaning.specs.Step.{halts, moves, tells, asks, picks}
use Rattle.ada_meaning.specs.Named.{Object, State, Next, next, object_at}
use Rattle.ada_meaning.specs.Run.{Event, Choice, settled, grants, takes, Leads, Halts}
use Rattle.ada_untouched.specs.Alike.{NextBy}
use Rattle.ada_untouched.specs.Law.{PastObjectsDoNotMatter}
use Rattle.ada_untouched.specs.Past.{is_past_at, SameOrPast, HeapsButForPast, StatesButForPast}
use Rattle.ada_pools.specs.Runner.{Runner}
use Rattle.ada_serve.specs.declared.serve.Status.{Status}
use Rattle.ada_serve.specs.Runner.{RunnerAnswers, StepsOn, EndsIn, BreaksOff, before_it, in_line, in_end}

-- A state is the same as itself.
pub same_state : (s : State) → StatesButForPast s s
same_state s = record { rest = refl; heaps = record { count = refl; objects = λ o. inl refl } }

same_behind : (here mid there : Option Object) → SameOrPast here mid → SameOrPast mid there → SameOrPast here there
same_behind here mid there (inl e) (inl f) = inl (f ∙ e)
same_behind here mid there (inl e) (inr (was, is)) = inr (sym (ap (λ (x : Option Object). is_past_at x) e) ∙ was, is)
same_behind here mid there (inr (was, is)) (inl f) = inr (was, ap (λ (x : Option Object). is_past_at x) f ∙ is)
same_behind here mid there (inr (was, is)) (inr (also, at_last)) = inr (was, at_last)

-- So it is over two states.
pub states_behind : (s t u : State) → StatesButForPast s t → StatesButForPast t u → StatesButForPast s u
states_behind s t u a b = record {
  rest = b.rest ∙ ap (λ (x : State). record x { heap = u.heap }) a.rest;
  heaps = record {
    count = a.heaps.count ∙ b.heaps.count;
    objects = λ o. same_behind (object_at s.heap o) (object_at t.heap o) (object_at u.heap o) (a.heaps.objects o) (b.heaps.objects o);
  };
}

-- A statement begins in both, or in neither.
pub begins_alike : (s t : State) → StatesButForPast s t → begins t ≡ begins s
begins_alike s t a = ap (λ (x : State). begins x) a.rest

-- What comes next is the same, but for past objects behind it.
abbrev ComeAlike : (here there : Next) → Type 0
ComeAlike here there = NextBy HeapsButForPast (λ event. Unit {0}) here there

answers_alike : (here there : Next) → ComeAlike here there → (runner after : Runner) (choice : Choice) → RunnerAnswers runner there choice after → RunnerAnswers runner here choice after
answers_alike (halts h) there is runner after choice a = subst (λ (coming : Next). RunnerAnswers runner coming choice after) is a
answers_alike (moves e s) there (t, is, alike, any) runner after choice a = subst (λ (coming : Next). RunnerAnswers runner coming choice after) is a
answers_alike (tells request e s) there (t, is, alike, any) runner after choice a = subst (λ (coming : Next). RunnerAnswers runner coming choice after) is a
answers_alike (asks request answered) there (answers, is, more) runner after choice a = subst (λ (coming : Next). RunnerAnswers runner coming choice after) is a
answers_alike (picks n taken) there (taking, is, more) runner after choice a = subst (λ (coming : Next). RunnerAnswers runner coming choice after) is a

-- A choice leads to a state that is the same but for past objects.
record LeadsAlike (here : Next) (choice : Choice) (event : Event) (last : State) : Type 0 where
  mid : State
  leads : Leads here choice event mid
  alike : StatesButForPast mid last

-- A state that is the same as the last one.
alike_last : (s t last : State) → last ≡ t → StatesButForPast s t → StatesButForPast s last
alike_last s t last e alike = subst (λ (u : State). StatesButForPast s u) (sym e) alike

leads_alike : (here there : Next) → ComeAlike here there → (choice : Choice) (event : Event) (last : State) → Leads there choice event last → LeadsAlike here choice event last
leads_alike (halts h) there is choice event last l = absurd (subst (λ (coming : Next). Leads coming choice event last) is l)
leads_alike (moves e s) there (t, is, alike, any) settled event last l =
    let to : (event ≡ e) × (last ≡ t) = subst (λ (coming : Next). Leads coming settled event last) is l in
    record { mid = s; leads = (to.0, refl); alike = alike_last s t last to.1 alike }
leads_alike (moves e s) there (t, is, alike, any) (grants granted) event last l = absurd (subst (λ (coming : Next). Leads coming (grants granted) event last) is l)
leads_alike (moves e s) there (t, is, alike, any) (takes i) event last l = absurd (subst (λ (coming : Next). Leads coming (takes i) event last) is l)
leads_alike (tells request e s) there (t, is, alike, any) settled event last l =
    let to : (event ≡ e) × (last ≡ t) = subst (λ (coming : Next). Leads coming settled event last) is l in
    record { mid = s; leads = (to.0, refl); alike = alike_last s t last to.1 alike }
leads_alike (tells request e s) there (t, is, alike, any) (grants granted) event last l = absurd (subst (λ (coming : Next). Leads coming (grants granted) event last) is l)
leads_alike (tells request e s) there (t, is, alike, any) (takes i) event last l = absurd (subst (λ (coming : Next). Leads coming (takes i) event last) is l)
leads_alike (asks request answered) there (answers, is, alike) settled event last l = absurd (subst (λ (coming : Next). Leads coming settled event last) is l)
leads_alike (asks request answered) there (answers, is, alike) (grants granted) event last l =
    let to : (event ≡ Quiet) × (last ≡ answers granted) = subst (λ (coming : Next). Leads coming (grants granted) event last) is l in
    record { mid = answered granted; leads = (to.0, refl); alike = alike_last (answered granted) (answers granted) last to.1 (alike granted) }
leads_alike (asks request answered) there (answers, is, alike) (takes i) event last l = absurd (subst (λ (coming : Next). Leads coming (takes i) event last) is l)
leads_alike (picks n taken) there (taking, is, alike) settled event last l = absurd (subst (λ (coming : Next). Leads coming settled event last) is l)
leads_alike (picks n taken) there (taking, is, alike) (grants granted) event last l = absurd (subst (λ (coming : Next). Leads coming (grants granted) event last) is l)
leads_alike (picks n taken) there (taking, is, alike) (takes i) event last l =
    let to : (i < n) × (event ≡ Quiet) × (last ≡ taking i) = subst (λ (coming : Next). Leads coming (takes i) event last) is l in
    record { mid = taken i; leads = (to.0, to.1, refl); alike = alike_last (taken i) (taking i) last to.2 (alike i) }

halts_alike : (here there : Next) → ComeAlike here there → (halt : Halt) → there ≡ halts halt → here ≡ halts halt
halts_alike (halts h) there is halt e = sym is ∙ e
halts_alike (moves event s) there (t, is, alike, any) halt e = let no : moves event t ≡ halts halt = sym is ∙ e in absurd (cc)
halts_alike (tells request event s) there (t, is, alike, any) halt e = let no : tells request event t ≡ halts halt = sym is ∙ e in absurd (cc)
halts_alike (asks request answered) there (answers, is, more) halt e = let no : asks request answers ≡ halts halt = sym is ∙ e in absurd (cc)
halts_alike (picks n taken) there (taking, is, more) halt e = let no : picks n taking ≡ halts halt = sym is ∙ e in absurd (cc)

-- One step of the runner's run leads to a state that is the same but for past objects.
pub record StepsAlike (program : Program) (trace : Bool) (runner after : Runner) (s last : State) (old new : Option (List ℕ)) : Type 0 where
  pub mid : State
  pub step : StepsOn program trace runner after s mid old new
  pub alike : StatesButForPast mid last

module _ (past : PastObjectsDoNotMatter) (program : Program) (s t : State) (a : StatesButForPast s t) where
  abbrev coming : State → Next
  coming state = next program.types.items (body_forms program) state

  come_alike : ComeAlike (coming s) (coming t)
  come_alike = past program.types.items (body_forms program) s t a

  halted_alike : (halt : Halt) → Halts program t halt → Halts program s halt
  halted_alike halt is = halts_alike (coming s) (coming t) come_alike halt is

  pub steps_alike : (trace : Bool) (runner after : Runner) (last : State) (old new : Option (List ℕ)) → StepsOn program trace runner after t last old new → StepsAlike program trace runner after s last old new
  steps_alike trace runner after last old new m =
      let l = leads_alike (coming s) (coming t) come_alike m.choice m.event last m.step in
      record {
        mid = l.mid;
        step = record {
          choice = m.choice;
          event = m.event;
          runners = answers_alike (coming s) (coming t) come_alike runner after m.choice m.runners;
          step = l.leads;
          line = m.line;
        };
        alike = l.alike;
      }

  -- The end is the same, and so is what a turn that broke off wrote.
  pub ends_alike : (ending : Status) (old new : Option (List ℕ)) → EndsIn program t old new ending → EndsIn program s old new ending
  ends_alike ending old new e = record { halt = e.halt; halts = halted_alike e.halt e.halts; line = e.line; ends = e.ends }

  pub breaks_alike : (trace : Bool) (runner : Runner) (old new : Option (List ℕ)) → BreaksOff program trace runner t old new → BreaksOff program trace runner s old new
  breaks_alike trace runner old new (before_it front) = before_it front
  breaks_alike trace runner old new (in_line choice event after last is step front) =
      let l = leads_alike (coming s) (coming t) come_alike choice event last step in
      in_line choice event after l.mid (answers_alike (coming s) (coming t) come_alike runner after choice is) l.leads front
  breaks_alike trace runner old new (in_end halt is front) = in_end halt (halted_alike halt is) front
