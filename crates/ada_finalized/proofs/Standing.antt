-- An object that is in its collection has the values of all its parts, where nothing initializes or adjusts it; and while no operation runs, nothing is treated
-- but in front of all else that is left to do.

use Rattle.std.proofs.Common.{◌≡◌, ℕ, ℤ, zero, suc, ◌<◌, true, false, List, [], ◌∷◌, length, Option, Some, refl, sym, ap, ◌∙◌, subst, arith}
use Rattle.std.specs.List.{slice_get}
use Rattle.ada_program.specs.declared.program.Program.{Program}
use Rattle.ada_program.specs.declared.program.TypeDefinition.{TypeDefinition}
use Rattle.ada_program.specs.Controlled.{OverridesNothing, shapes_of}
use Rattle.ada_parts.specs.Part as parts
use Rattle.ada_parts.specs.Task.{Task}
use Rattle.ada_meaning.specs.declared.state.Id.{Id}
use Rattle.ada_meaning.specs.declared.state.Value.{Value}
use Rattle.ada_meaning.specs.declared.state.Value.TheVariants.{Names}
use Rattle.ada_meaning.specs.declared.state.Mode.{Mode}
use Rattle.ada_meaning.specs.declared.state.Mode.TheVariants.{Running, Raising, Exiting, Returning}
use Rattle.ada_meaning.specs.declared.event.Birth.{Birth}
use Rattle.ada_meaning.specs.declared.event.Birth.TheVariants.{Adjustment}
use Rattle.ada_meaning.specs.declared.event.Cause.{Cause}
use Rattle.ada_meaning.specs.Frame.{Frame, Treatment, begins, ends, begins_by}
use Rattle.ada_meaning.specs.Frame as frame
use Rattle.ada_meaning.specs.State.{begins_in, begins_among}
use Rattle.ada_meaning.specs.Step.{parts_held, treating, older}
use Rattle.ada_meaning.specs.Named.{Object, State}
use Rattle.ada_meaning.specs.Run.{Event, Run, first_state}
use Rattle.ada_meaning.specs.Finalization.{NothingTreated, HasParts}
use Rattle.ada_finalized.specs.Law.{waits_for_operation, NoOperationRuns, AllPartsStand, NothingBegins, ListedObjectsStand, NoOperationRunsOn, NoOperationRunsOnListed, StatementsTreatNothing}
use Rattle.ada_finalized.proofs.Ranks.{Heap}
use Rattle.ada_finalized.proofs.Doings.{name, same_name, Calm, Ending, doings, rest, rest_doings, Of, Lasts, lasting_gain, gains, losses}
use Rattle.ada_finalized.proofs.Stacks.{Acts, Control, Kind, code, guard, finalization, Stack, nothing, calm, comes_back, operates, awaits, confines, to_end, to_copy, ending_then, storing_then, guard_never, none_behind, of_treating, on_treating, none_of_lasting}
use Rattle.ada_finalized.proofs.Claims.{Claimed}
use Rattle.ada_finalized.proofs.Invariant.{Sane, exists, is_gone, Fine, AssignsThen, Stands, runs, finding, passing, ends_operation, beginning, ending, leaving, storing, Fits}
use Rattle.ada_finalized.proofs.Going.{alive_of, listed_exists}
use Rattle.ada_finalized.proofs.Runs.{past_then, last_holds}

-- What is within the length is there.
some_at : {X : Type 0} (xs : List X) (n : ℕ) → n < length xs → (x : X) × (slice_get xs n ≡ Some x)
some_at [] n lt = absurd (omega (arith, lt))
some_at (x ∷ xs) zero lt = (x, refl)
some_at (x ∷ xs) (suc n) lt = some_at xs n (omega (arith, lt))

-- Nothing waits for a part of an object that is in its collection, where nothing initializes or adjusts it.
module _ (types : List TypeDefinition) (past : List Event) (xs : Heap) (next : ℕ) (o : Id) (x : Object) (at_o : slice_get xs o.0 ≡ Some x) (listed : x.listed ≡ true) where
  not_ending : (v : Value) → Fine types past xs next (Ending v) → v ≡ Names o → ⊥
  not_ending v (i, (is, (y, (at_i, unlisted)))) same =
      let e : i ≡ o.0 = same_name i o.0 (sym is ∙ same) in
      let both : Some y ≡ Some x = sym at_i ∙ ap (slice_get xs) e ∙ at_o in
      let one : y ≡ x = cc both in
      let never : true ≡ false = sym listed ∙ sym (ap (λ (z : Object). z.listed) one) ∙ unlisted in
      absurd (cc never)

  it_lasts : (k : Control) → NothingBegins (Names o) k → Of (Fine types past xs next) (doings k) → Of (Lasts o.0) (doings k)
  it_lasts [] none fine = tt
  it_lasts (frame.Treats v (begins by done) tasks ∷ k) none fine = (none.0, it_lasts k none.1 fine.1)
  it_lasts (frame.Treats v (ends cause) tasks ∷ k) none fine = (tt, it_lasts k none fine.1)
  it_lasts (frame.Awaits v by done of part tasks ∷ k) none fine = (none.0, it_lasts k none.1 fine.1)
  it_lasts (frame.Ends v ∷ k) none fine = (not_ending v fine.0, it_lasts k none fine.1)
  it_lasts (f ∷ k) none fine = it_lasts k none fine

listed_length : (types : List TypeDefinition) (x : Object) → x.listed ≡ true → Sane types x → length x.cell.parts ≡ parts_held types x.cell.access
listed_length types x listed (exists stage out parts) = parts
listed_length types x listed (is_gone gone unlisted dead) = let never : true ≡ false = sym listed ∙ unlisted in absurd (cc never)

fits_parts :
    (types : List TypeDefinition) (past : List Event) (s : State) (o : Id) (x : Object) → Fits types past s → NothingBegins (Names o) s.control
    → slice_get s.heap o.0 ≡ Some x → x.listed ≡ true → HasParts types x
fits_parts types past s o x h none is listed n lt =
    let shapes = shapes_of types in
    let ds = doings s.control in
    let sane = h.inv.sane o.0 x is in
    let le = listed_length types x listed sane in
    let p = some_at x.cell.parts n (omega (arith, lt, le)) in
    let a = lasting_gain shapes o.0 n ds (it_lasts types past s.heap s.next o x is listed s.control none h.inv.fine) in
    let c = subst (λ (found : Option Object). Claimed found n (gains shapes o.0 n ds) (losses shapes o.0 n ds)) is (h.inv.claims o.0 n) (listed_exists types x listed sane) p.0 p.1 in
    (p.0, p.1, alive_of p.0.alive (omega (arith, a, c)))

pub listed_stand : ListedObjectsStand
listed_stand program input events last run o x is listed none =
    fits_parts program.types.items (past_then events []) last o x (last_holds program input events last run).fits none is listed

-- No operation of it runs, in whatever state.
module _ (types : List TypeDefinition) (s : State) (o : ℕ) where
  on_rest : (k : Control) → NoOperationRunsOn (name o) (rest k) → NoOperationRunsOn (name o) k
  on_rest [] none = none
  on_rest (frame.Treats v treatment tasks ∷ k) none = none
  on_rest (frame.Awaits v by done of part tasks ∷ k) none = none
  on_rest (frame.Confines ∷ k) none = none
  on_rest (frame.Assigns t ∷ k) none = none
  on_rest (frame.Ends v ∷ k) none = none
  on_rest (frame.GivesBack v cause pool ∷ k) none = none
  on_rest (frame.Returns actuals references ∷ k) none = none
  on_rest (f ∷ k) none = on_rest k none

  on_assigns : (acts : Acts) (k : Control) → AssignsThen types s.heap acts k → Of (Lasts o) (doings k) → NoOperationRunsOn (name o) k
  on_assigns acts [] after lasts = absurd after
  on_assigns acts (frame.Assigns t ∷ k) after lasts = none_of_lasting types s.heap code acts k after o lasts
  on_assigns acts (f ∷ k) after lasts = absurd after

  on_assigning : AssignsThen types s.heap s.activations (rest s.control) → Of (Lasts o) (doings s.control) → NoOperationRunsOn (name o) s.control
  on_assigning after lasts =
      on_rest s.control (on_assigns s.activations (rest s.control) after (subst (Of (Lasts o)) (sym (rest_doings s.control)) lasts))

  -- So it is behind a frame.
  on_code : (c k : Control) → c ≡ k → NoOperationRunsOn (name o) k → NoOperationRunsOn (name o) c
  on_code c k is none = subst (NoOperationRunsOn (name o)) (sym is) none

  lasts_in : (c : Control) → s.control ≡ c → Of (Lasts o) (doings s.control) → Of (Lasts o) (doings c)
  lasts_in c is lasts = subst (λ (k : Control). Of (Lasts o) (doings k)) is lasts

  pub none_runs_on : Stands types s.heap s → Of (Lasts o) (doings s.control) → NoOperationRunsOn (name o) s.control
  none_runs_on (runs h) lasts = none_of_lasting types s.heap code s.activations s.control h o lasts
  none_runs_on (finding running f after) lasts = on_assigning after lasts
  none_runs_on (passing e raises p after) lasts = on_assigning after lasts
  none_runs_on (ends_operation h) lasts = none_of_lasting types s.heap guard s.activations s.control h o lasts
  none_runs_on (beginning i by done task tasks k running is h) lasts =
      on_code s.control _ is (none_of_lasting types s.heap code s.activations k h o (lasts_in _ is lasts).1)
  none_runs_on (ending running h) lasts = none_of_lasting types s.heap finalization s.activations s.control h o lasts
  none_runs_on (leaving i x cause pool k running is own h at_o gone) lasts =
      on_code s.control _ is (none_of_lasting types s.heap code s.activations k h o (lasts_in _ is lasts))
  none_runs_on (storing i n to width tasks k running is h) lasts =
      on_code s.control _ is
      (on_treating types s.heap (name o) (name i) (begins (Adjustment n) []) tasks k
      (none_of_lasting types s.heap code s.activations k h o
      (of_treating types s.heap (Lasts o) (name i) (begins (Adjustment n) []) tasks k (lasts_in _ is lasts))))

pub none_runs_on_listed : NoOperationRunsOnListed
none_runs_on_listed program input events last run o x is listed none =
    let fits = (last_holds program input events last run).fits in
    none_runs_on program.types.items last o.0 fits.stands (it_lasts program.types.items (past_then events []) last.heap last.next o x is listed last.control none fits.inv.fine)

-- Where nothing is treated, nothing begins.
pub nothing_begins : (v : Value) (k : Control) → NothingTreated k → NothingBegins v k
nothing_begins v [] h = tt
nothing_begins v (frame.Treats w treatment tasks ∷ k) h = absurd h
nothing_begins v (frame.Awaits w by done of part tasks ∷ k) h = absurd h
nothing_begins v (f ∷ k) h = nothing_begins v k h

pub all_stand : AllPartsStand
all_stand program input events last run still o x is listed =
    listed_stand program input events last run o x is listed (nothing_begins (Names o) last.control still)

-- Where nothing is done to any object, nothing is treated.
nothing_done : (k : Control) → doings k ≡ [] → NothingTreated k
nothing_done [] e = tt
nothing_done (frame.Treats v treatment tasks ∷ k) e = absurd (cc e)
nothing_done (frame.Awaits v by done of part tasks ∷ k) e = absurd (cc e)
nothing_done (frame.Ends v ∷ k) e = absurd (cc e)
nothing_done (f ∷ k) e = nothing_done k e

-- A frame with which no treatment begins, and behind which none is to come.
abbrev pub TreatsNothing : Frame Value → Type 0
TreatsNothing (frame.Treats v treatment tasks) = ⊥
TreatsNothing (frame.Awaits v by done of part tasks) = ⊥
TreatsNothing frame.Confines = ⊥
TreatsNothing (frame.Copies from t) = ⊥
TreatsNothing (frame.StoresRecord v to width) = ⊥
TreatsNothing f = Unit {0}

-- Frames that no jump and no treatment stops at wait for no operation.
still_rest : (k : Control) → NoOperationRuns k → NoOperationRuns (rest k)
still_rest [] still = tt
still_rest (frame.Treats v treatment tasks ∷ k) still = still
still_rest (frame.Awaits v by done of part tasks ∷ k) still = still
still_rest (frame.Confines ∷ k) still = still
still_rest (frame.Assigns t ∷ k) still = still
still_rest (frame.Ends v ∷ k) still = still
still_rest (frame.GivesBack v cause pool ∷ k) still = still
still_rest (frame.Returns actuals references ∷ k) still = still
still_rest (f ∷ k) still = still_rest k still.1

-- What is left of a treatment waits for no operation.
treating_still : (v : Value) (treatment : Treatment) (tasks : List Task) (k : Control) → NoOperationRuns (treating v treatment tasks k) → NoOperationRuns k
treating_still v treatment [] k none = none
treating_still v treatment (task ∷ tasks) k none = none.1

-- The components of a record get those of another one, it is adjusted, and then nothing is treated.
pub record AdjustsAlone (v : Value) (k : Control) : Type 0 where
  pub object : Id
  pub number : ℕ
  pub to : ℕ
  pub width : ℕ
  pub tasks : List Task
  pub behind : Control
  pub named : v ≡ Names object
  pub is : k ≡ frame.StoresRecord (Names object) to width ∷ treating (Names object) (begins (Adjustment number) []) tasks behind
  pub untreated : NothingTreated behind

-- While no operation runs, nothing is treated but in front of all else.
module _ (types : List TypeDefinition) (s : State) (still : NoOperationRuns s.control) where
  pub code_nothing : (k : Control) (acts : Acts) → NoOperationRuns k → Stack types s.heap code acts k → NothingTreated k
  code_nothing k acts none h = nothing_done k (none_behind types s.heap acts k h none)

  pub assigns_nothing : (acts : Acts) (k : Control) → NoOperationRuns k → AssignsThen types s.heap acts (rest k) → NothingTreated k
  assigns_nothing acts k none h = nothing_done k (sym (rest_doings k) ∙ go (rest k) (still_rest k none) h)
    where
      go : (j : Control) → NoOperationRuns j → AssignsThen types s.heap acts j → doings j ≡ []
      go [] none' h' = absurd h'
      go (frame.Assigns t ∷ j) none' h' = none_behind types s.heap acts j h' none'.1
      go (f ∷ j) none' h' = absurd h'

  first_of : Frame Value → Control → Frame Value
  first_of d [] = d
  first_of d (f ∷ k) = f

  by_first : (f g : Frame Value) (k j : Control) → f ∷ k ≡ g ∷ j → (TreatsNothing g → ⊥) → TreatsNothing f → NothingTreated (f ∷ k)
  unfolding first_of
  by_first f g k j e never h = absurd (never (subst TreatsNothing (ap (first_of f) e) h))

  finalization_nothing : (acts : Acts) (f : Frame Value) (k : Control) → NoOperationRuns (f ∷ k) → TreatsNothing f → Stack types s.heap finalization acts (f ∷ k) → NothingTreated (f ∷ k)
  finalization_nothing acts f k still h (to_end o cause pool [] j is own once st) =
      let e : f ∷ k ≡ ending_then o cause pool j = is in
      subst NothingTreated (sym e) (code_nothing j acts (subst NoOperationRuns e still).1.1 st)
  finalization_nothing acts f k still h (to_end o cause pool (task ∷ tasks) j is own once st) = by_first f _ k _ is (λ never. never) h
  finalization_nothing acts f k still h (to_copy o n from t to width source [] later j is less once operand st) = by_first f _ k _ is (λ never. never) h
  finalization_nothing acts f k still h (to_copy o n from t to width source (task ∷ tasks) later j is less once operand st) = by_first f _ k _ is (λ never. never) h

  pub nothing_fits : (f : Frame Value) (k : Control) → s.control ≡ f ∷ k → TreatsNothing f → Stands types s.heap s → NothingTreated s.control
  nothing_fits f k is h (runs st) = code_nothing s.control s.activations still st
  nothing_fits f k is h (finding running g after) = assigns_nothing s.activations s.control still after
  nothing_fits f k is h (passing e raises p after) = assigns_nothing s.activations s.control still after
  nothing_fits f k is h (ends_operation st) = absurd (guard_never types s.heap s.activations s.control st still)
  nothing_fits f k is h (beginning o by done task tasks j running c st) = subst NothingTreated (sym is) (by_first f _ k _ (sym is ∙ c) (λ never. never) h)
  nothing_fits f k is h (ending running st) =
      subst NothingTreated (sym is) (finalization_nothing s.activations f k (subst NoOperationRuns is still) h (subst (Stack types s.heap finalization s.activations) is st))
  nothing_fits f k is h (leaving o x cause pool j running c own st at_o gone) = subst NothingTreated (sym c) (code_nothing j s.activations (subst NoOperationRuns c still).1 st)
  nothing_fits f k is h (storing o n to width tasks j running c st) = subst NothingTreated (sym is) (by_first f _ k _ (sym is ∙ c) (λ never. never) h)

  -- Behind the finalization of an object that then ceases to exist, nothing is treated.
  behind_finalization :
      (acts : Acts) (v w : Value) (cause : Cause) (tasks : List Task) (k : Control) → NoOperationRuns (frame.Treats v (ends cause) tasks ∷ frame.Ends w ∷ k)
      → Stack types s.heap finalization acts (frame.Treats v (ends cause) tasks ∷ frame.Ends w ∷ k) → NothingTreated k
  behind_finalization acts v w cause tasks k none (to_end o because pool [] j is own once st) = absurd (cc is)
  behind_finalization acts v w cause tasks k none (to_end o because pool (task ∷ left) j is own once st) =
      let e : k ≡ frame.GivesBack (name o) because pool ∷ j = cc is in
      subst NothingTreated (sym e) (code_nothing j acts (subst NoOperationRuns e none.1.1).1 st)
  behind_finalization acts v w cause tasks k none (to_copy o n from t to width source [] later j is less once operand st) = absurd (cc is)
  behind_finalization acts v w cause tasks k none (to_copy o n from t to width source (task ∷ left) later j is less once operand st) = absurd (cc is)

  pub behind_end :
      (v w : Value) (cause : Cause) (tasks : List Task) (k : Control) → s.control ≡ frame.Treats v (ends cause) tasks ∷ frame.Ends w ∷ k
      → Stands types s.heap s → NothingTreated k
  behind_end v w cause tasks k is (runs st) = absurd (subst NothingTreated is (code_nothing s.control s.activations still st))
  behind_end v w cause tasks k is (finding running g after) = absurd (subst NothingTreated is (assigns_nothing s.activations s.control still after))
  behind_end v w cause tasks k is (passing e raises p after) = absurd (subst NothingTreated is (assigns_nothing s.activations s.control still after))
  behind_end v w cause tasks k is (ends_operation st) = absurd (guard_never types s.heap s.activations s.control st still)
  behind_end v w cause tasks k is (beginning o by done task left j running c st) = let e = sym is ∙ c in absurd (cc e)
  behind_end v w cause tasks k is (ending running st) =
      behind_finalization s.activations v w cause tasks k (subst NoOperationRuns is still) (subst (Stack types s.heap finalization s.activations) is st)
  behind_end v w cause tasks k is (leaving o x because pool j running c own st at_o gone) = let e = sym is ∙ c in absurd (cc e)
  behind_end v w cause tasks k is (storing o n to width left j running c st) = let e = sym is ∙ c in absurd (cc e)

  -- What is left of a finalization does not begin with an initialization or an adjustment: so behind these nothing is treated.
  not_finalization :
      (acts : Acts) (v : Value) (by : Birth) (done : List parts.Part) (tasks : List Task) (k : Control)
      → Stack types s.heap finalization acts (frame.Treats v (begins by done) tasks ∷ k) → ⊥
  not_finalization acts v by done tasks k (to_end o because pool [] j is own once st) = absurd (cc is)
  not_finalization acts v by done tasks k (to_end o because pool (task ∷ left) j is own once st) = absurd (cc is)
  not_finalization acts v by done tasks k (to_copy o n from t to width source [] later j is less once operand st) = absurd (cc is)
  not_finalization acts v by done tasks k (to_copy o n from t to width source (task ∷ left) later j is less once operand st) = absurd (cc is)

  pub behind_start :
      (v : Value) (by : Birth) (done : List parts.Part) (tasks : List Task) (k : Control) → s.control ≡ frame.Treats v (begins by done) tasks ∷ k
      → Stands types s.heap s → NothingTreated k
  behind_start v by done tasks k is (runs st) = absurd (subst NothingTreated is (code_nothing s.control s.activations still st))
  behind_start v by done tasks k is (finding running g after) = absurd (subst NothingTreated is (assigns_nothing s.activations s.control still after))
  behind_start v by done tasks k is (passing e raises p after) = absurd (subst NothingTreated is (assigns_nothing s.activations s.control still after))
  behind_start v by done tasks k is (ends_operation st) = absurd (guard_never types s.heap s.activations s.control st still)
  behind_start v by done tasks k is (beginning o how before task left j running c st) =
      let e = sym is ∙ c in
      let same : k ≡ j = cc e in
      subst NothingTreated (sym same) (code_nothing j s.activations (subst NoOperationRuns c still).1 st)
  behind_start v by done tasks k is (ending running st) =
      absurd (not_finalization s.activations v by done tasks k (subst (Stack types s.heap finalization s.activations) is st))
  behind_start v by done tasks k is (leaving o x because pool j running c own st at_o gone) = let e = sym is ∙ c in absurd (cc e)
  behind_start v by done tasks k is (storing o n to width left j running c st) = let e = sym is ∙ c in absurd (cc e)

  -- Behind the finalization of the value of a record that is assigned to, that record alone is adjusted.
  copying_finalization :
      (acts : Acts) (v : Value) (cause : Cause) (tasks : List Task) (first t : ℕ) (k : Control) → NoOperationRuns (frame.Treats v (ends cause) tasks ∷ frame.Copies first t ∷ k)
      → Stack types s.heap finalization acts (frame.Treats v (ends cause) tasks ∷ frame.Copies first t ∷ k) → AdjustsAlone v k
  copying_finalization acts v cause tasks first t k none (to_end o because pool [] j is own once st) = absurd (cc is)
  copying_finalization acts v cause tasks first t k none (to_end o because pool (task ∷ left) j is own once st) = absurd (cc is)
  copying_finalization acts v cause tasks first t k none (to_copy o n from u to width source [] later j is less once operand st) = absurd (cc is)
  copying_finalization acts v cause tasks first t k none (to_copy o n from u to width source (task ∷ left) later j is less once operand st) =
      let named : v ≡ name o = cc is in
      let e : k ≡ storing_then o n to width later j = cc is in
      record {
        object = record { 0 = o };
        number = n;
        to = to;
        width = width;
        tasks = later;
        behind = j;
        named = named;
        is = e;
        untreated = code_nothing j acts (treating_still (name o) (begins (Adjustment n) []) later j (subst NoOperationRuns e none.1.1).1) st;
      }

  pub behind_copy :
      (v : Value) (cause : Cause) (tasks : List Task) (first t : ℕ) (k : Control) → s.control ≡ frame.Treats v (ends cause) tasks ∷ frame.Copies first t ∷ k
      → Stands types s.heap s → AdjustsAlone v k
  behind_copy v cause tasks first t k is (runs st) = absurd (subst NothingTreated is (code_nothing s.control s.activations still st))
  behind_copy v cause tasks first t k is (finding running g after) = absurd (subst NothingTreated is (assigns_nothing s.activations s.control still after))
  behind_copy v cause tasks first t k is (passing e raises p after) = absurd (subst NothingTreated is (assigns_nothing s.activations s.control still after))
  behind_copy v cause tasks first t k is (ends_operation st) = absurd (guard_never types s.heap s.activations s.control st still)
  behind_copy v cause tasks first t k is (beginning o by done task left j running c st) = let e = sym is ∙ c in absurd (cc e)
  behind_copy v cause tasks first t k is (ending running st) =
      copying_finalization s.activations v cause tasks first t k (subst NoOperationRuns is still) (subst (Stack types s.heap finalization s.activations) is st)
  behind_copy v cause tasks first t k is (leaving o x because pool j running c own st at_o gone) = let e = sym is ∙ c in absurd (cc e)
  behind_copy v cause tasks first t k is (storing o n to width left j running c st) = let e = sym is ∙ c in absurd (cc e)

-- So it is at any frame that treats nothing, as one of a Free does.
pub nothing_treated_at :
    (program : Program) (input : List ℤ) (events : List Event) (last : State) → NoOperationRuns last.control
    → Run program (first_state program input) events last → (f : Frame Value) (k : Control) → last.control ≡ f ∷ k → TreatsNothing f
    → NothingTreated last.control
nothing_treated_at program input events last still run f k is h =
    nothing_fits program.types.items last still f k is h (last_holds program input events last run).fits.stands

-- And behind the finalization of an object that then ceases to exist (7.6.1), nothing is treated either.
pub untreated_end :
    (program : Program) (input : List ℤ) (events : List Event) (last : State) → NoOperationRuns last.control
    → Run program (first_state program input) events last → (v w : Value) (cause : Cause) (tasks : List Task) (k : Control)
    → last.control ≡ frame.Treats v (ends cause) tasks ∷ frame.Ends w ∷ k → NothingTreated k
untreated_end program input events last still run v w cause tasks k is =
    behind_end program.types.items last still v w cause tasks k is (last_holds program input events last run).fits.stands

-- So it is behind the initialization of a new object, or the adjustment of a copy (7.6).
pub untreated_start :
    (program : Program) (input : List ℤ) (events : List Event) (last : State) → NoOperationRuns last.control
    → Run program (first_state program input) events last → (v : Value) (by : Birth) (done : List parts.Part) (tasks : List Task) (k : Control)
    → last.control ≡ frame.Treats v (begins by done) tasks ∷ k → NothingTreated k
untreated_start program input events last still run v by done tasks k is =
    behind_start program.types.items last still v by done tasks k is (last_holds program input events last run).fits.stands

-- Where the value of a record is finalized that is assigned to, that record alone is adjusted behind it (5.2, 7.6).
pub adjusts_alone :
    (program : Program) (input : List ℤ) (events : List Event) (last : State) → NoOperationRuns last.control
    → Run program (first_state program input) events last → (v : Value) (cause : Cause) (tasks : List Task) (first t : ℕ) (k : Control)
    → last.control ≡ frame.Treats v (ends cause) tasks ∷ frame.Copies first t ∷ k → AdjustsAlone v k
adjusts_alone program input events last still run v cause tasks first t k is =
    behind_copy program.types.items last still v cause tasks first t k is (last_holds program input events last run).fits.stands

-- And so it is where a statement begins.
beginning_in : (mode : Mode) (k : Control) → begins_in mode k ≡ true → begins_among k ≡ true
beginning_in Running k e = e
beginning_in (Raising x) k e = absurd (cc e)
beginning_in Exiting k e = absurd (cc e)
beginning_in Returning k e = absurd (cc e)

beginning_first : (f : Frame Value) → begins_by f ≡ true → TreatsNothing f
beginning_first (frame.Does fs) e = tt
beginning_first f e = absurd (cc e)

beginning_among : (k : Control) → begins_among k ≡ true → (f : Frame Value) × ((j : Control) × ((k ≡ f ∷ j) × TreatsNothing f))
beginning_among [] e = absurd (cc e)
beginning_among (f ∷ j) e = (f, (j, (refl, beginning_first f e)))

pub nothing_treated : StatementsTreatNothing
nothing_treated program input events last still run e =
    let f = beginning_among last.control (beginning_in last.mode last.control e) in
    nothing_treated_at program input events last still run f.0 f.1.0 f.1.1.0 f.1.1.1

-- Where no type overrides an operation, none runs in any state of a run.
calm_waits : (f : Frame Value) → Calm f → waits_for_operation f ≡ false
calm_waits (frame.Awaits v by done of part tasks) c = absurd c
calm_waits frame.Confines c = absurd c
calm_waits f c = refl

still_from : (k : Control) → NoOperationRuns (rest k) → NoOperationRuns k
still_from [] still = tt
still_from (frame.Treats v treatment tasks ∷ k) still = still
still_from (frame.Awaits v by done of part tasks ∷ k) still = still
still_from (frame.Confines ∷ k) still = still
still_from (frame.Assigns t ∷ k) still = still
still_from (frame.Ends v ∷ k) still = still
still_from (frame.GivesBack v cause pool ∷ k) still = still
still_from (frame.Returns actuals references ∷ k) still = still
still_from (f ∷ k) still = (refl, still_from k still)

still_treating : (v : Value) (treatment : Treatment) (tasks : List Task) (k : Control) → NoOperationRuns k → NoOperationRuns (treating v treatment tasks k)
still_treating v treatment [] k still = still
still_treating v treatment (task ∷ tasks) k still = (refl, still)

module _ (types : List TypeDefinition) (xs : Heap) (none : OverridesNothing types) where
  stack_still : (kind : Kind) (acts : Acts) (k : Control) → Stack types xs kind acts k → NoOperationRuns k
  stack_still code acts _ nothing = tt
  stack_still code acts _ (calm f k c h) = (calm_waits f c, stack_still code acts k h)
  stack_still code acts _ (comes_back actuals references k h) = (refl, stack_still code (older acts) k h)
  stack_still code acts _ (operates k h) = (refl, stack_still guard (older acts) k h)
  stack_still guard acts _ (awaits v by done of part tasks k some p h) = absurd (some none)
  stack_still guard acts _ (confines k some p h) = absurd (some none)
  stack_still finalization acts control (to_end o cause pool tasks k is own once h) =
      subst NoOperationRuns (sym is) (still_treating (Names _) (ends cause) tasks _ (refl, (refl, stack_still code acts k h)))
  stack_still finalization acts control (to_copy o n first t to width source tasks left k is less once operand h) =
      subst NoOperationRuns (sym is)
      (still_treating (Names _) (ends _) tasks _ (refl, (refl, still_treating (Names _) (begins _ []) left k (stack_still code acts k h))))

  assigns_still : (acts : Acts) (k : Control) → AssignsThen types xs acts k → NoOperationRuns k
  assigns_still acts [] h = absurd h
  assigns_still acts (frame.Assigns t ∷ k) h = (refl, stack_still code acts k h)
  assigns_still acts (f ∷ k) h = absurd h

  state_still : (s : State) → Stands types xs s → NoOperationRuns s.control
  state_still s (runs h) = stack_still code s.activations s.control h
  state_still s (finding running f after) = still_from s.control (assigns_still s.activations (rest s.control) after)
  state_still s (passing e raises p after) = still_from s.control (assigns_still s.activations (rest s.control) after)
  state_still s (ends_operation h) = stack_still guard s.activations s.control h
  state_still s (beginning o by done task tasks k running is h) = subst NoOperationRuns (sym is) (refl, stack_still code s.activations k h)
  state_still s (ending running h) = stack_still finalization s.activations s.control h
  state_still s (leaving o x cause pool k running is own h at_o gone) = subst NoOperationRuns (sym is) (refl, stack_still code s.activations k h)
  state_still s (storing o n to width tasks k running is h) =
      subst NoOperationRuns (sym is) (refl, still_treating (Names _) (begins _ []) tasks k (stack_still code s.activations k h))

pub none_runs :
    (program : Program) (input : List ℤ) (events : List Event) (last : State) → OverridesNothing program.types.items
    → Run program (first_state program input) events last → NoOperationRuns last.control
none_runs program input events last none run =
    state_still program.types.items last.heap none last (last_holds program input events last run).fits.stands
