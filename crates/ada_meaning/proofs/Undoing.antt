-- What an exception that comes out of an operation leaves to do, and how an object ends.

use Rattle.std.proofs.Common.{◌≡◌, ◌≢◌, ℕ, suc, ◌+◌, Bool, true, false, if◌then◌else◌, List, ◌∷◌, Option, Some, None, refl, sym, ap, ◌∙◌, subst, arith}
use Rattle.std.proofs.lemmas.Bool.{ne_eqb}
use Rattle.ada_program.specs.declared.program.Exception.{Exception}
use Rattle.ada_program.specs.declared.program.TypeDefinition.{TypeDefinition}
use Rattle.ada_program.specs.ProgramForm.{BodyForm, body_forms}
use Rattle.ada_parts.specs.Part.{Part}
use Rattle.ada_parts.specs.Task.{Task}
use Rattle.ada_parts.proofs.Facts.{eq_self}
use Rattle.ada_meaning.specs.declared.event.Birth.TheVariants.{Creation}
use Rattle.ada_meaning.specs.declared.event.Cause.{Cause}
use Rattle.ada_meaning.specs.declared.event.Halt.TheVariants.{Erroneous}
use Rattle.ada_meaning.specs.declared.event.Why.TheVariants.{EndsTwice, GivesElsewhere}
use Rattle.ada_meaning.specs.declared.state.Id.{Id}
use Rattle.ada_meaning.specs.declared.state.Mode.TheVariants.{Running, Raising}
use Rattle.ada_meaning.specs.declared.state.Stage.TheVariants.{Gone}
use Rattle.ada_meaning.specs.declared.state.Value.{Value}
use Rattle.ada_meaning.specs.declared.state.Value.TheVariants.{Names}
use Rattle.ada_meaning.specs.Event.{Back, GiveBack}
use Rattle.ada_meaning.specs.Frame.{Frame}
use Rattle.ada_meaning.specs.Frame as frame
use Rattle.ada_meaning.specs.Heap.{Cell, Found, on_gone, finds}
use Rattle.ada_meaning.specs.Step.{halts, at, same_pool, undone, undo_next, end_next, told_back, given_back, back_next}
use Rattle.ada_meaning.specs.Named.{Object, State, named, next, look, lent, lent_by, on_object, parted, finished, returned}
use Rattle.ada_meaning.specs.Run.{Event, Halts}
use Rattle.ada_meaning.specs.Calls.{ComesTo}
use Rattle.ada_meaning.specs.Operations.{Makes, OneChanges, Exists, IsUndone, FailedInitializesAreUndone, ObjectsEnd, WordsGoBack, ExceptionsGoOn, of_copy, of_assignment, of_finalize, NothingEscapes}
use Rattle.ada_meaning.proofs.Operations.{makes, makes_told, comes, look_exists, look_gone, changes_alone}

-- One pool is the same one, and another one is not.
pub same_self : (pool : Option ℕ) → same_pool pool pool ≡ true
same_self None = refl
same_self (Some pool) = eq_self pool

pub same_apart : (pool other : Option ℕ) → pool ≢ other → same_pool pool other ≡ false
same_apart None None apart = absurd (apart refl)
same_apart None (Some other) apart = refl
same_apart (Some pool) None apart = refl
same_apart (Some pool) (Some other) apart = ne_eqb pool other (λ same. apart (ap (λ (n : ℕ). Some n) same))

module _ (types : List TypeDefinition) (bodies : List BodyForm) (outer : List (Frame Value)) (o : Id) (s : State) where
  undo_step :
      (e : Exception) (done : List Part) (tasks : List Task) (of part : ℕ) → s.mode ≡ Raising e
      → s.control ≡ frame.Awaits (Names o) Creation done of part tasks ∷ outer
      → next types bodies s ≡ undo_next named e (Names o) done (look s.heap (Names o)) (at outer s)
  unfolding next
  undo_step e done tasks of part raises is = rw (raises, is) refl

  cease_step : s.mode ≡ Running → s.control ≡ frame.Ends (Names o) ∷ outer → next types bodies s ≡ end_next named (Names o) (look s.heap (Names o)) (at outer s)
  unfolding next
  cease_step runs is = rw (runs, is) refl

  back_step :
      (cause : Cause) (pool : Option ℕ) → s.mode ≡ Running → s.control ≡ frame.GivesBack (Names o) cause pool ∷ outer
      → next types bodies s ≡ back_next named (Names o) cause pool (lent s.heap (Names o)) (at outer s)
  unfolding next
  back_step cause pool runs is = rw (runs, is) refl

pub failed_initializes_are_undone : FailedInitializesAreUndone
failed_initializes_are_undone program e done tasks of part o object outer before raises is there = (exists_so, gone_so)
  where
    step :
        next program.types.items (body_forms program) before
        ≡ undo_next named e (Names o) done (look before.heap (Names o)) (at outer before)
    step = undo_step program.types.items (body_forms program) outer o before e done tasks of part raises is

    counted_so : before.next + 1 ≡ suc before.next
    counted_so = omega arith

    exists_so : Exists object → ComesTo program before (IsUndone e done o object outer before)
    exists_so exists =
        comes program before (undone named e (Names o) done object.cell (at outer before)) (IsUndone e done o object outer before)
        (record {
          heap = changes_alone parted before.heap o object there;
          rest = ap (λ (n : ℕ). record (undone named e (Names o) done object.cell (at outer before)) { next = n }) counted_so;
        })
        (step ∙ ap (λ (found : Found (Cell Value)). undo_next named e (Names o) done found (at outer before)) (look_exists before.heap o object there exists))

    gone_so : object.stage ≡ Gone → Halts program before (Erroneous EndsTwice)
    gone_so gone =
        step ∙ ap (λ (found : Found (Cell Value)). undo_next named e (Names o) done found (at outer before)) (look_gone before.heap o object there gone)

pub objects_end : ObjectsEnd
objects_end program o object outer before runs is there = (exists_so, gone_so)
  where
    step : next program.types.items (body_forms program) before ≡ end_next named (Names o) (look before.heap (Names o)) (at outer before)
    step = cease_step program.types.items (body_forms program) outer o before runs is

    ended : State
    ended = record before { heap = on_object finished before.heap (Names o); control = outer }

    HasCeased : State → Type 0
    HasCeased after =
        OneChanges before.heap after.heap o (record object { stage = Gone; listed = false }) × (after ≡ record before { heap = after.heap; control = outer })

    exists_so : Exists object → ComesTo program before HasCeased
    exists_so exists =
        comes program before ended HasCeased (changes_alone finished before.heap o object there, refl)
        (step ∙ ap (λ (found : Found (Cell Value)). end_next named (Names o) found (at outer before)) (look_exists before.heap o object there exists))

    gone_so : object.stage ≡ Gone → Halts program before (Erroneous EndsTwice)
    gone_so gone = step ∙ ap (λ (found : Found (Cell Value)). end_next named (Names o) found (at outer before)) (look_gone before.heap o object there gone)

pub words_go_back : WordsGoBack
words_go_back program cause pool o object outer before runs is there = (home_so, elsewhere_so, twice_so)
  where
    ready : State
    ready = at outer before

    -- The step, as the object's words are out, or are not.
    step :
        (out : Bool) → object.out ≡ out
        → next program.types.items (body_forms program) before ≡ back_next named (Names o) cause pool (if out then finds object.cell else on_gone) ready
    step out is_out =
        back_step program.types.items (body_forms program) outer o before cause pool runs is
        ∙ ap (λ (at_o : Option Object). back_next named (Names o) cause pool (lent_by at_o) ready) there
        ∙ ap (λ (b : Bool). back_next named (Names o) cause pool (if b then finds object.cell else on_gone) ready) is_out

    given : State
    given = record before { heap = on_object returned before.heap (Names o); control = outer }

    shown : Option ℕ → Event
    shown to = Back (Names o) object.cell.access object.cell.number to object.cell.home.subpool cause

    IsBack : State → Type 0
    IsBack after = OneChanges before.heap after.heap o (record object { out = false }) × (after ≡ record before { heap = after.heap; control = outer })

    changed_so : IsBack given
    changed_so = (changes_alone returned before.heap o object there, refl)

    told_so : (to : Option ℕ) → next program.types.items (body_forms program) before ≡ told_back named to (Names o) (shown to) given → Makes program before (shown to) IsBack
    told_so None comes_so = makes program before given (shown None) IsBack changed_so comes_so
    told_so (Some to) comes_so = makes_told program before given (shown (Some to)) IsBack changed_so (GiveBack (Names o)) comes_so

    choose : (own : Bool) → same_pool pool object.cell.home.pool ≡ own → object.out ≡ true
        → next program.types.items (body_forms program) before ≡ (if own then given_back named (Names o) cause object.cell ready else halts (Erroneous GivesElsewhere))
    choose own is_own is_out =
        step true is_out ∙ ap (λ (b : Bool). if b then given_back named (Names o) cause object.cell ready else halts (Erroneous GivesElsewhere)) is_own

    home_so : object.out ≡ true → pool ≡ object.cell.home.pool → Makes program before (shown pool) IsBack
    home_so is_out home =
        subst (λ (to : Option ℕ). Makes program before (shown to) IsBack) (sym home)
        (told_so object.cell.home.pool (choose true (ap (λ (to : Option ℕ). same_pool to object.cell.home.pool) home ∙ same_self object.cell.home.pool) is_out))

    elsewhere_so : object.out ≡ true → pool ≢ object.cell.home.pool → Halts program before (Erroneous GivesElsewhere)
    elsewhere_so is_out apart = choose false (same_apart pool object.cell.home.pool apart) is_out

    twice_so : object.out ≡ false → Halts program before (Erroneous EndsTwice)
    twice_so is_back = step false is_back

pub exceptions_go_on : ExceptionsGoOn
unfolding next
exceptions_go_on program e outer before runs is =
    let known : State = record before { mode = Raising e; control = outer } in
    comes program before known (λ after. after ≡ known) refl (rw (runs, is) refl)

pub nothing_escapes : NothingEscapes
unfolding next
nothing_escapes program e f outer before of_copy raises is = rw (raises, is) refl
nothing_escapes program e f outer before of_assignment raises is = rw (raises, is) refl
nothing_escapes program e f outer before of_finalize raises is = rw (raises, is) refl
