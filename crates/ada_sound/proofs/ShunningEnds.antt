-- The body of a Finalize shuns access types (3.10) that the end of an object does not reach, in which such a part lies (7.6, 7.6.1): where the body is
-- frugal, it follows and frees no value of these types (4.1, 13.11.2), and neither do what it calls and the operations of what it frees, allocates and declares.

use Rattle.ada_sound.proofs.InsideRecords.{Inside, TasksInside, record_inside, picked_inside, performed_inside}
use Rattle.ada_sound.proofs.Inert.{inside_some}
use Rattle.ada_sound.proofs.AssignedParts.{done_inside, own_record}
use Rattle.std.proofs.Common.{◌≡◌, ℕ, zero, suc, ◌<◌, Bool, true, false, not, ◌==◌, ◌&&◌, ◌||◌, List, [], ◌∷◌, length, Option, Some, None, refl, sym, ap, ◌∙◌, subst, arith, inl, inr}
use Rattle.std.specs.Prelude.{nat_lt}
use Rattle.std.specs.List.{slice_get, slice_index_or}
use Rattle.std.proofs.lemmas.Bool.{and_from, and_parts, or_cases, or_left, or_parts, or_right, eqb-true, eqb-false, lt-ltb, ltb-true, not-true, false_from_ne_true}
use Rattle.ada_parts.specs.declared.tasks.Direction.{Direction}
use Rattle.ada_parts.specs.declared.tasks.Direction.TheVariants.{PartsFirst, WholeFirst}
use Rattle.ada_parts.specs.Shape.{Shape}
use Rattle.ada_parts.specs.Task.{Task, performs, performed, treats}
use Rattle.ada_program.specs.declared.program.Program.{Program}
use Rattle.ada_program.specs.Controlled.{number_reached, operations_of, procedure_number, shapes_of}
use Rattle.ada_program.specs.ProgramForm.{BodyForm, ProgramForm, program_form, body_forms, seen_by}
use Rattle.ada_program.specs.WellFormed.{IsWellFormed, finalization_of}
use Rattle.ada_meaning.specs.declared.event.Birth.TheVariants.{Creation}
use Rattle.ada_meaning.specs.declared.event.Cause.TheVariants.{Freeing}
use Rattle.ada_meaning.specs.Frame.{Treatment, begins, ends}
use Rattle.ada_meaning.specs.Step.{all_tasks, member_at, picked_task, tasks_for}
use Rattle.ada_quiet.specs.Calm.{is_known_calm, unadjusted_types}
use Rattle.ada_quiet.specs.Frugal.{thrift_of, frugal_procedures, is_frugal_body}
use Rattle.ada_quiet.specs.Apart.{leave_access}
use Rattle.ada_quiet.specs.InUse.{operations_may_be_called, tracks_nothing}
use Rattle.ada_quiet.proofs.FrugalAt.{frugal_at, operation_more, thrift_at}
use Rattle.ada_quiet.proofs.QuietFrugal.{frugal_body}
use Rattle.ada_deeds.specs.declared.deed.Callee.{Callee}
use Rattle.ada_deeds.specs.declared.deed.Callee.TheVariants as callee
use Rattle.ada_deeds.specs.declared.deed.Deed.{Deed}
use Rattle.ada_deeds.specs.declared.deed.Deed.TheVariants as deed
use Rattle.ada_deeds.specs.declared.deed.Operation.{Operation}
use Rattle.ada_deeds.specs.declared.deed.Operation.TheVariants.{Initialize, Adjust, Finalize}
use Rattle.ada_deeds.specs.Does.{called_does, is_deed_of, Does, does}
use Rattle.ada_deeds.specs.Forms.{body_does, creation_does, overriding, parts_do}
use Rattle.ada_deeds.specs.Implicit.{implicit_of, record_at}
use Rattle.ada_deeds.specs.Within.{does_within, callee_count, does_by}
use Rattle.ada_deeds.proofs.Within.{counts_are_enough}
use Rattle.ada_reaching.specs.Apart.{Apart, CallsApart, IsBegunIn, IsLeftOf, whole, picked, called, IsLeftIn, whole_in, picked_in, called_in}
use Rattle.ada_reaching.specs.Forms.{body_shuns}
use Rattle.ada_reaching.specs.Law.{AreApart}
use Rattle.ada_reaching.specs.Deeds.{AreShaped, UseNone}
use Rattle.ada_reaching.proofs.Deeds.{unused_apart}
use Rattle.ada_reaching.proofs.Inert.{unadjusted_calls_nothing}
use Rattle.ada_typed.proofs.Bodies.{SeenFits, seen_as, seen_fits}
use Rattle.ada_typed.proofs.Lying.{IsOperable, Lying, lying_all, lying_taken}
use Rattle.ada_typed.proofs.Parts.{known_number, shapes_shown}
use Rattle.ada_sound.proofs.FrugalUseEnds.{done_lying}
use Rattle.ada_sound.proofs.LeftSpares.{left_spares}
use Rattle.ada_sound.proofs.Operating.{IsCalled}
use Rattle.ada_sound.proofs.QuietOperations.{AdjustsCopy, IsUsedAs, adjusts_frugally, used_as}
use Rattle.ada_sound.proofs.Shunning.{AssignsSpared, CopiesInert, CallsFrugal, CopiesSpared, EndsSpared, Spares, StartsSpared, body_shaped, calling, first, following, freeing, is_use, second}

-- A body is frugal, where there is one.
abbrev is_frugal_one : ProgramForm → Option BodyForm → Bool
is_frugal_one p None = true
is_frugal_one p (Some b) = is_frugal_body (thrift_at p) b

-- A test fails for each number below this one.
abbrev none_below : ℕ → (ℕ → Bool) → Bool
none_below zero test = true
none_below (suc n) test = not (test n) && none_below n test

-- So it is, where it fails for each of them,
none_below_from : (n : ℕ) (test : ℕ → Bool) → ((u : ℕ) → u < n → test u ≡ false) → none_below n test ≡ true
none_below_from zero test none = refl
none_below_from (suc n) test none =
    and_from (not (test n)) (none_below n test) (ap not (none n (omega arith))) (none_below_from n test (λ u less. none u (omega (arith, less))))

-- and then it fails for each of them.
none_below_at : (n : ℕ) (test : ℕ → Bool) → none_below n test ≡ true → (u : ℕ) → u < n → test u ≡ false
none_below_at zero test none u less = absurd (omega (arith, less))
none_below_at (suc n) test none u less =
    by (u == n) refl (none_below_at n test (and_parts (not (test n)) (none_below n test) none).1 u)
  where
    by : (same : Bool) → (u == n) ≡ same → (u < n → test u ≡ false) → test u ≡ false
    by true is later = let one = eqb-true u n is in rw one (not-true (test n) (and_parts (not (test n)) (none_below n test) none).0)
    by false is later = let other = eqb-false u n is in later (omega (arith, less, other))

-- What is done is done to none of these types of a program.
abbrev none_of : ProgramForm → (shuns : ℕ → Bool) → (done : ℕ → Bool) → Bool
none_of p shuns done = none_below (length p.types) (λ u. shuns u && done u)

-- A procedure is so, and it frees and follows no value of these types.
abbrev is_shunning : ProgramForm → (shuns : ℕ → Bool) → (procedure : ℕ) → Bool
is_shunning p shuns n =
    is_frugal_one p (slice_get p.bodies n) && none_of p shuns (λ u. does_by p (freeing u) (calling n))
    && none_of p shuns (λ u. does_by p (following u) (calling n))

-- The start of an object frees or follows a value of an access type: that of the record that is named by values of a type, or known by it, or the end of what
-- has begun of that (7.6, 7.6.1).
abbrev start_reaches : ProgramForm → (t access : ℕ) → Bool
start_reaches p t u =
    creation_does (does_by p (freeing u)) (record_at p.types t) || creation_does (does_by p (following u)) (record_at p.types t)

-- So does the adjustment of a record of a type (7.6).
abbrev adjust_reaches : ProgramForm → (t access : ℕ) → Bool
adjust_reaches p t u = parts_do (does_by p (freeing u)) Adjust (Some t) || parts_do (does_by p (following u)) Adjust (Some t)

-- These procedures; the types of which the end of an object does neither; those of which the start of an object does neither; the record types of which the end
-- of a record does neither; and those that override no Adjust, or whose adjustment does neither, where no Adjust tracks.
abbrev apart_from : Program → (shuns : ℕ → Bool) → Apart
apart_from program shuns = record {
  calls = is_shunning (program_form program) shuns;
  ends = λ t. none_of (program_form program) shuns (λ u. (implicit_of (program_form program)).end_reaches t u);
  starts = λ t. none_of (program_form program) shuns (λ u. start_reaches (program_form program) t u);
  assigns = λ t. none_of (program_form program) shuns (λ u. (implicit_of (program_form program)).end_reaches t u);
  copies = λ t.
      is_known_calm (unadjusted_types (program_form program).types) (finalization_of (program_form program).types t)
      || (leave_access (program_form program).types && none_of (program_form program) shuns (λ u. adjust_reaches (program_form program) t u));
  definitions = program.types.items;
}

-- What is left of the initialization or the finalization of an object speaks of records that lie in it.
module _ (program : Program) (direction : Direction) (access : ℕ) where
  -- All of it does,
  all_lie : Lying (program_form program).types access (all_tasks program.types.items access direction)
  all_lie =
      let definitions = program.types.items in
      let forms = (program_form program).types in
      let number = number_reached definitions access in
      subst (λ (shapes : List Shape). Lying forms access (tasks_for shapes direction number)) (shapes_shown definitions forms refl)
      (lying_all forms access direction number (known_number definitions forms access refl))

  -- so it does once a component is picked,
  picked_lies :
      (tasks : List Task) (i : ℕ) → Lying (program_form program).types access tasks
      → Lying (program_form program).types access (picked_task (shapes_of program.types.items) direction tasks i)
  picked_lies [] i lies = tt
  picked_lies (treats cs ∷ behind) i lies =
      let forms = (program_form program).types in
      subst (λ (shapes : List Shape). Lying forms access (picked_task shapes direction (treats cs ∷ behind) i)) (shapes_shown program.types.items forms refl)
      (lying_taken forms access direction cs behind (member_at direction (length cs) i) lies)
  picked_lies (performs of part ∷ behind) i lies = lies

  -- or an operation has been called.
  performed_lies : (tasks : List Task) → Lying (program_form program).types access tasks → Lying (program_form program).types access (performed tasks)
  performed_lies [] lies = tt
  performed_lies (treats cs ∷ behind) lies = lies
  performed_lies (performs of part ∷ behind) lies = lies.1

  -- So whatever is left does.
  left_lies : {tasks : List Task} → IsLeftOf program.types.items direction access tasks → Lying (program_form program).types access tasks
  left_lies whole = all_lie
  left_lies (picked {tasks = tasks} i left) = picked_lies tasks i (left_lies left)
  left_lies (called {tasks = tasks} left) = performed_lies tasks (left_lies left)

-- What is left of the finalization of a record to which another one is assigned speaks of records that lie in it (5.2).
left_inside :
    (program : Program) (t : ℕ) {tasks : List Task} → IsLeftIn program.types.items WholeFirst t tasks → TasksInside (program_form program).types t tasks
left_inside program t (whole_in first) = record_inside program t WholeFirst first
left_inside program t (picked_in {tasks = tasks} i left) = picked_inside program t WholeFirst tasks i (left_inside program t left)
left_inside program t (called_in {tasks = tasks} left) = performed_inside (program_form program).types t tasks (left_inside program t left)

-- A part lies in an object, to which the initialization of the object comes (7.6).
begun_lies : (program : Program) (access of part : ℕ) → IsBegunIn program.types.items access of part → IsOperable (program_form program).types access of part
begun_lies program access of part begun = (left_lies program PartsFirst access begun.1).0

-- Of some types, or of none.
module _ (p : ProgramForm) (shuns : ℕ → Bool) where
  -- What is done to none of them,
  none_from : (done : ℕ → Bool) → ((u : ℕ) → shuns u ≡ true → nat_lt u (length p.types) ≡ true → done u ≡ false) → none_of p shuns done ≡ true
  none_from done none = none_below_from (length p.types) (λ u. shuns u && done u) (λ u less. by u (shuns u) refl (lt-ltb u (length p.types) less))
    where
      by : (u : ℕ) (shunned : Bool) → shuns u ≡ shunned → nat_lt u (length p.types) ≡ true → (shuns u && done u) ≡ false
      by u true is there = rw is (none u is there)
      by u false is there = rw is refl

  -- is done to each of them not.
  none_at : (done : ℕ → Bool) → none_of p shuns done ≡ true → (u : ℕ) → shuns u ≡ true → nat_lt u (length p.types) ≡ true → done u ≡ false
  none_at done none u is there =
      let not_both : (shuns u && done u) ≡ false = none_below_at (length p.types) (λ v. shuns v && done v) none u (ltb-true u (length p.types) there) in
      rw is at not_both

  -- Where no use of the types is among what one does, it neither frees nor follows a value of one,
  callee_spares :
      (c : Callee) → Spares p shuns (λ d. does_by p d c) → (u : ℕ) → shuns u ≡ true → nat_lt u (length p.types) ≡ true
      → (does_by p (freeing u) c ≡ false) × (does_by p (following u) c ≡ false)
  callee_spares c spares u is there =
      let is_one = and_from (shuns u) (nat_lt u (length p.types)) is there in (spares (freeing u) is_one, spares (following u) is_one)

  -- and neither does an operation of a record, where there is one.
  parts_spare :
      (operation : Operation) (o : Option ℕ) → Spares p shuns (λ d. parts_do (does_by p d) operation o) → (u : ℕ) → shuns u ≡ true
      → nat_lt u (length p.types) ≡ true → (parts_do (does_by p (freeing u)) operation o ≡ false) × (parts_do (does_by p (following u)) operation o ≡ false)
  parts_spare operation None spares u is there = (refl, refl)
  parts_spare operation (Some t) spares u is there = callee_spares (callee.Parts operation (record { 0 = t })) spares u is there

  -- So where the end of an object is no use of the types, it reaches none of them,
  end_spares :
      (t : ℕ) → Spares p shuns (λ d. parts_do (does_by p d) Finalize (record_at p.types t)) → none_of p shuns (λ u. (implicit_of p).end_reaches t u) ≡ true
  end_spares t spares =
      none_from (λ u. (implicit_of p).end_reaches t u) (λ u is there.
      let ended = parts_spare Finalize (record_at p.types t) spares u is there in
      rw (ended.0, ended.1) refl)

  -- and so it is with its start.
  start_spares :
      (t : ℕ) → Spares p shuns (λ d. creation_does (does_by p d) (record_at p.types t)) → none_of p shuns (λ u. start_reaches p t u) ≡ true
  start_spares t spares =
      let one = λ (d : Deed). parts_do (does_by p d) Initialize (record_at p.types t) in
      let other = λ (d : Deed). parts_do (does_by p d) Finalize (record_at p.types t) in
      none_from (λ u. start_reaches p t u) (λ u is there.
      let begun = parts_spare Initialize (record_at p.types t) (first p shuns one other spares) u is there in
      let ended = parts_spare Finalize (record_at p.types t) (second p shuns one other spares) u is there in
      rw (begun.0, begun.1, ended.0, ended.1) refl)

  -- So it is with an adjustment.
  adjust_spares : (t : ℕ) → Spares p shuns (λ d. parts_do (does_by p d) Adjust (Some t)) → none_of p shuns (λ u. adjust_reaches p t u) ≡ true
  adjust_spares t spares =
      none_from (λ u. adjust_reaches p t u) (λ u is there. let adjusted = parts_spare Adjust (Some t) spares u is there in rw (adjusted.0, adjusted.1) refl)

  -- A procedure that is told to be frugal has a frugal body, if it has one.
  told_frugal : (n : ℕ) → slice_index_or (frugal_procedures p) n false ≡ true → is_frugal_one p (slice_get p.bodies n) ≡ true
  told_frugal n told = by (slice_get p.bodies n) refl
    where
      by : (found : Option BodyForm) → slice_get p.bodies n ≡ found → is_frugal_one p found ≡ true
      by None there = refl
      by (Some b) there = frugal_at p n b told there

  -- A frugal procedure that does neither is one of these,
  shunning_from :
      (n : ℕ) → is_frugal_one p (slice_get p.bodies n) ≡ true
      → ((u : ℕ) → shuns u ≡ true → nat_lt u (length p.types) ≡ true → (does_by p (freeing u) (calling n) ≡ false) × (does_by p (following u) (calling n) ≡ false))
      → is_shunning p shuns n ≡ true
  shunning_from n is none =
      let frugal = is_frugal_one p (slice_get p.bodies n) in
      let free = none_of p shuns (λ u. does_by p (freeing u) (calling n)) in
      let follow = none_of p shuns (λ u. does_by p (following u) (calling n)) in
      and_from (frugal && free) follow (and_from frugal free is (none_from (λ u. does_by p (freeing u) (calling n)) (λ u shunned there. (none u shunned there).0)))
      (none_from (λ u. does_by p (following u) (calling n)) (λ u shunned there. (none u shunned there).1))

  -- and so each of them is.
  shunning_parts :
      (n : ℕ) → is_shunning p shuns n ≡ true
      → (is_frugal_one p (slice_get p.bodies n) ≡ true) × (none_of p shuns (λ u. does_by p (freeing u) (calling n)) ≡ true)
      × (none_of p shuns (λ u. does_by p (following u) (calling n)) ≡ true)
  shunning_parts n is =
      let frugal = is_frugal_one p (slice_get p.bodies n) in
      let free = none_of p shuns (λ u. does_by p (freeing u) (calling n)) in
      let follow = none_of p shuns (λ u. does_by p (following u) (calling n)) in
      let both = and_parts (frugal && free) follow is in
      let two = and_parts frugal free both.0 in
      (two.0, two.1, both.1)

  -- A use is a deed of the program.
  use_of : (d : Deed) → is_use p shuns d ≡ true → is_deed_of p d ≡ true
  use_of (deed.Raises e) is = absurd (cc is)
  use_of (deed.Frees t) is = (and_parts (shuns t.0) (nat_lt t.0 (length p.types)) is).1
  use_of (deed.Follows t) is = (and_parts (shuns t.0) (nat_lt t.0 (length p.types)) is).1
  use_of deed.Allocates is = absurd (cc is)
  use_of deed.Calls is = absurd (cc is)

  -- What the body of a procedure does, the procedure does: where that is no use, what its body does is none.
  body_spares :
      (n : ℕ) (b : BodyForm) → slice_get p.bodies n ≡ Some b → ((d : Deed) → is_use p shuns d ≡ true → ¬ Does p d (calling n))
      → Spares p shuns (λ d. body_does p.types (does_by p d) d b)
  body_spares n b there none d is =
      false_from_ne_true (body_does p.types (does_by p d) d b)
      (λ done. none d is
      (does (use_of d is) (does_by p d) (λ other known. (counts_are_enough p d other).0 known) (ap (called_does p.types (does_by p d) d) there ∙ done)))

-- In a well-formed program in which each Initialize is plain or frugal that may be called, and each Finalize is quiet or frugal.
module _ (program : Program) (well : IsWellFormed (program_form program)) (uses : operations_may_be_called (program_form program) ≡ true) where
  abbrev p : ProgramForm
  p = program_form program

  -- What is called for an object that no copy makes is frugal: what is plain is so, too.
  called_frugal :
      (of number : ℕ) (treatment : Treatment) → ¬ AdjustsCopy treatment → IsCalled (operations_of program.types.items of) treatment number
      → is_frugal_one p (slice_get p.bodies number) ≡ true
  called_frugal of number treatment none overrides = by (slice_get p.bodies number) refl
    where
      as_used : (b : BodyForm) → IsUsedAs p of number treatment b → is_frugal_body (thrift_at p) b ≡ true
      as_used b (inl (plain, lets)) = frugal_body (thrift_at p) p.types b plain.plain
      as_used b (inr (inl (may, enabled, frugal, stores))) = operation_more p b frugal
      as_used b (inr (inr (copies, tracks, own))) = absurd (none copies)

      by : (found : Option BodyForm) → slice_get p.bodies number ≡ found → is_frugal_one p found ≡ true
      by None there = refl
      by (Some b) there = as_used b (used_as program uses well of number b there treatment (λ copies. absurd (none copies)) overrides)

  -- So what overrides Finalize is: it is called for an object that is freed.
  finalize_frugal :
      (of number : ℕ) → procedure_number (operations_of program.types.items of).finalize ≡ Some number
      → is_frugal_one p (slice_get p.bodies number) ≡ true
  finalize_frugal of number overrides = called_frugal of number (ends (Freeing number)) (λ copies. copies) overrides

  -- So is what overrides Initialize: it is called for an object that is created.
  initialize_frugal :
      (of number : ℕ) → procedure_number (operations_of program.types.items of).initialize ≡ Some number
      → is_frugal_one p (slice_get p.bodies number) ≡ true
  initialize_frugal of number overrides = called_frugal of number (begins Creation []) (λ copies. copies) overrides

  -- So is what overrides Adjust, where none tracks.
  adjust_frugal :
      tracks_nothing p ≡ true → (of number : ℕ) → procedure_number (operations_of program.types.items of).adjust ≡ Some number
      → is_frugal_one p (slice_get p.bodies number) ≡ true
  adjust_frugal nothing of number overrides = by (slice_get p.bodies number) refl
    where
      by : (found : Option BodyForm) → slice_get p.bodies number ≡ found → is_frugal_one p found ≡ true
      by None there = refl
      by (Some b) there = operation_more p b (adjusts_frugally program uses well of number b there nothing overrides)

  -- What an operation of an object does not do, that of a record does not do that lies in it.
  operation_spares :
      (operation : Operation) (access of part number : ℕ) → IsOperable p.types access of part
      → procedure_number (overriding operation (operations_of program.types.items of)) ≡ Some number
      → (d : Deed) → parts_do (does_by p d) operation (record_at p.types access) ≡ false → does_by p d (calling number) ≡ false
  operation_spares operation access of part number operable overrides d none =
      false_from_ne_true (does_by p d (calling number))
      (λ done.
      let own = (counts_are_enough p d (calling number)).0 done in
      let all = done_lying program well d operation access of part number operable overrides own in
      cc (none, all))

  -- Of some types, or of none.
  module _ (shuns : ℕ → Bool) where
    -- What is apart from them.
    abbrev apart : Apart
    apart = apart_from program shuns

    -- An operation of a part of an object is one of these procedures, where it is frugal, and that of the object does not reach the types.
    operation_shuns :
        (operation : Operation) (access of part number : ℕ) → IsOperable p.types access of part
        → procedure_number (overriding operation (operations_of program.types.items of)) ≡ Some number
        → is_frugal_one p (slice_get p.bodies number) ≡ true
        → ((u : ℕ) → shuns u ≡ true → nat_lt u (length p.types) ≡ true → (parts_do (does_by p (freeing u)) operation (record_at p.types access) ≡ false)
        × (parts_do (does_by p (following u)) operation (record_at p.types access) ≡ false)) → apart.calls number ≡ true
    operation_shuns operation access of part number operable overrides frugal none =
        shunning_from p shuns number frugal (λ u is there. (
          operation_spares operation access of part number operable overrides (freeing u) (none u is there).0,
          operation_spares operation access of part number operable overrides (following u) (none u is there).1,
        ))

    -- So is a Finalize, where the end of the object does not reach the types,
    end_shuns :
        (access of part number : ℕ) → IsOperable p.types access of part → procedure_number (operations_of program.types.items of).finalize ≡ Some number
        → none_of p shuns (λ u. (implicit_of p).end_reaches access u) ≡ true → apart.calls number ≡ true
    end_shuns access of part number operable overrides reaches =
        let ended = λ (d : Deed). parts_do (does_by p d) Finalize (record_at p.types access) in
        operation_shuns Finalize access of part number operable overrides (finalize_frugal of number overrides) (λ u is there.
        or_parts (ended (freeing u)) (ended (following u)) (none_at p shuns (λ v. (implicit_of p).end_reaches access v) reaches u is there))

    -- and where its start does not, so are an Initialize, and a Finalize of what has begun.
    start_shuns :
        (access of part number : ℕ) → IsOperable p.types access of part → none_of p shuns (λ u. start_reaches p access u) ≡ true
        → (procedure_number (operations_of program.types.items of).initialize ≡ Some number → apart.calls number ≡ true)
        × (procedure_number (operations_of program.types.items of).finalize ≡ Some number → apart.calls number ≡ true)
    start_shuns access of part number operable reaches =
        let begun = λ (d : Deed). parts_do (does_by p d) Initialize (record_at p.types access) in
        let ended = λ (d : Deed). parts_do (does_by p d) Finalize (record_at p.types access) in
        let none = λ (u : ℕ) (is : shuns u ≡ true) (there : nat_lt u (length p.types) ≡ true).
        or_parts (begun (freeing u) || ended (freeing u)) (begun (following u) || ended (following u)) (none_at p shuns (λ v. start_reaches p access v) reaches u is there) in
        let frees = λ (u : ℕ) (is : shuns u ≡ true) (there : nat_lt u (length p.types) ≡ true). or_parts (begun (freeing u)) (ended (freeing u)) (none u is there).0 in
        let follows = λ (u : ℕ) (is : shuns u ≡ true) (there : nat_lt u (length p.types) ≡ true). or_parts (begun (following u)) (ended (following u)) (none u is there).1 in (
          λ overrides. operation_shuns Initialize access of part number operable overrides (initialize_frugal of number overrides)
              (λ u is there. ((frees u is there).0, (follows u is there).0)),
          λ overrides. operation_shuns Finalize access of part number operable overrides (finalize_frugal of number overrides)
              (λ u is there. ((frees u is there).1, (follows u is there).1)),
        )

    -- So is a Finalize of a part of a record to which another one is assigned, where the end of such a record does not reach the types (5.2).
    overwrite_shuns :
        (t of number : ℕ) → Inside p.types t of → procedure_number (operations_of program.types.items of).finalize ≡ Some number
        → none_of p shuns (λ u. (implicit_of p).end_reaches t u) ≡ true → apart.calls number ≡ true
    overwrite_shuns t of number inside overrides reaches =
        let ended = λ (d : Deed). parts_do (does_by p d) Finalize (record_at p.types t) in
        let f = inside_some p.types t of inside in
        let spared = λ (d : Deed) (none : ended d ≡ false).
        false_from_ne_true (does_by p d (calling number)) (λ done.
        let all = done_inside program well d Finalize t of number inside overrides ((counts_are_enough p d (calling number)).0 done) in
        let told : ended d ≡ true =
        ap (parts_do (does_by p d) Finalize) (own_record t (slice_get p.types t) f.0 f.1)
        ∙ (counts_are_enough p d (callee.Parts Finalize (record { 0 = t }))).1 all in
        cc (none, told)) in
        shunning_from p shuns number (finalize_frugal of number overrides) (λ u is there.
        let two = or_parts (ended (freeing u)) (ended (following u)) (none_at p shuns (λ v. (implicit_of p).end_reaches t v) reaches u is there) in
        (spared (freeing u) two.0, spared (following u) two.1))

    -- So is an Adjust, where none tracks, and the adjustment of the record does not reach the types.
    adjust_shuns :
        (record_type of part number : ℕ) (tasks : List Task) → apart.copies record_type ≡ true
        → IsLeftIn program.types.items PartsFirst record_type (performs of part ∷ tasks) → procedure_number (operations_of program.types.items of).adjust ≡ Some number
        → apart.calls number ≡ true
    adjust_shuns record_type of part number tasks may left overrides =
        elim (or_cases (is_known_calm (unadjusted_types p.types) (finalization_of p.types record_type)) (leave_access p.types && none_of p shuns (λ u. adjust_reaches p record_type u)) may) [
          | inl unadjusted ↦
              let none = unadjusted_calls_nothing program well record_type of part tasks unadjusted left in
              absurd (cc (none, overrides))
          | inr untracked ↦
              let both = and_parts (leave_access p.types) (none_of p shuns (λ u. adjust_reaches p record_type u)) untracked in
              shunning_from p shuns number (adjust_frugal both.0 of number overrides) (λ u is there.
              let freed = parts_do (does_by p (freeing u)) Adjust (Some record_type) in
              let followed = parts_do (does_by p (following u)) Adjust (Some record_type) in
              let neither = or_parts freed followed (none_at p shuns (λ v. adjust_reaches p record_type v) both.1 u is there) in (
                left_spares program well Adjust PartsFirst (freeing u) record_type of part number tasks neither.0 left overrides,
                left_spares program well Adjust PartsFirst (following u) record_type of part number tasks neither.1 left overrides,
              ))
        ]

    -- So is each operation that the start or the end of an object calls which they may start or end, or the adjustment of a record that gets its value from another
    -- one.
    operations_apart : CallsApart program.types.items apart
    operations_apart = record {
      finalizes = λ access of part number tasks may left overrides.
          end_shuns access of part number (left_lies program WholeFirst access left).0 overrides may;
      initializes = λ access of part number may begun overrides.
          (start_shuns access of part number (begun_lies program access of part begun) may).0 overrides;
      undoes = λ access of part number may begun overrides.
          (start_shuns access of part number (begun_lies program access of part begun) may).1 overrides;
      overwrites = λ record_type of part number tasks may left overrides.
          overwrite_shuns record_type of number (left_inside program record_type left).0 overrides may;
      adjusts = λ record_type of part number tasks may left overrides. adjust_shuns record_type of part number tasks may left overrides;
    }

    -- They free and follow no value of the types,
    unused : UseNone p shuns apart
    unused = record {
      follow_none = λ n t among shunned done.
          let own = (counts_are_enough p (following t) (calling n)).1 done in
          let there = (and_parts (nat_lt t (length p.types)) (does_within p (following t) (callee_count p) (calling n)) own).0 in
          let none = none_at p shuns (λ u. does_by p (following u) (calling n)) (shunning_parts p shuns n among).2 t shunned there in
          cc (none, own);
      free_none = λ n t among shunned done.
          let own = (counts_are_enough p (freeing t) (calling n)).1 done in
          let there = (and_parts (nat_lt t (length p.types)) (does_within p (freeing t) (callee_count p) (calling n)) own).0 in
          let none = none_at p shuns (λ u. does_by p (freeing u) (calling n)) (shunning_parts p shuns n among).1 t shunned there in
          cc (none, own);
    }

    -- and no use is among what they do.
    uses_none : (n : ℕ) → apart.calls n ≡ true → (d : Deed) → is_use p shuns d ≡ true → ¬ Does p d (calling n)
    uses_none n among (deed.Raises e) is done = absurd (cc is)
    uses_none n among (deed.Frees t) is done = unused.free_none n t.0 among (and_parts (shuns t.0) (nat_lt t.0 (length p.types)) is).0 done
    uses_none n among (deed.Follows t) is done = unused.follow_none n t.0 among (and_parts (shuns t.0) (nat_lt t.0 (length p.types)) is).0 done
    uses_none n among deed.Allocates is done = absurd (cc is)
    uses_none n among deed.Calls is done = absurd (cc is)

    -- Each frugal procedure of which a call is no use is among them,
    calls_frugal : CallsFrugal p shuns apart
    calls_frugal n told spares = shunning_from p shuns n (told_frugal p shuns n told) (callee_spares p shuns (calling n) spares)

    -- so is each type of which the end of an object is no use,
    ends_spared : EndsSpared p shuns apart
    ends_spared t spares = end_spares p shuns t spares

    -- and so is each type of which the start of an object is none.
    starts_spared : StartsSpared p shuns apart
    starts_spared t spares = start_spares p shuns t spares

    -- So is each record type of which the end of a record is none,
    assigns_spared : AssignsSpared p shuns apart
    assigns_spared t f is spares =
        end_spares p shuns t
        (subst (λ (o : Option ℕ). Spares p shuns (λ d. parts_do (does_by p d) Finalize o)) (sym (own_record t (slice_get p.types t) f is)) spares)

    -- and those of each type may get their values from others, if it overrides no Adjust,
    copies_inert : CopiesInert p shuns apart
    copies_inert t known =
        or_left (is_known_calm (unadjusted_types p.types) (finalization_of p.types t)) (leave_access p.types && none_of p shuns (λ u. adjust_reaches p t u)) known

    -- or if the adjustment is no use, where none tracks.
    copies_spared : CopiesSpared p shuns apart
    copies_spared nothing t spares =
        let none = none_of p shuns (λ u. adjust_reaches p t u) in
        or_right (is_known_calm (unadjusted_types p.types) (finalization_of p.types t)) (leave_access p.types && none)
        (and_from (leave_access p.types) none nothing (adjust_spares p shuns t spares))

    -- So they have the shape.
    shaped : AreShaped p program.types.items apart
    shaped = record {
      own = refl;
      bodies = λ n b among there.
          let fits : SeenFits (seen_by n b p) = subst (λ (own : ProgramForm). SeenFits own) (seen_as p n b there) (seen_fits p well (Some n)) in
          let frugal = subst (λ (found : Option BodyForm). is_frugal_one p found ≡ true) there (shunning_parts p shuns n among).0 in
          body_shaped p shuns apart calls_frugal ends_spared starts_spared assigns_spared copies_inert copies_spared n b fits frugal
          (body_spares p shuns n b there (uses_none n among));
      operations = operations_apart;
    }

    -- All of them shun the types.
    all_apart : AreApart p program.types.items shuns apart
    all_apart = unused_apart p shuns apart unused program.types.items well shaped

  -- Such a body has the shape of bodies that shun types, whatever it uses, and so have all that it calls, and the operations of what it frees, allocates and
  -- declares.
  module _ (number : ℕ) (b : BodyForm) (there : slice_get p.bodies number ≡ Some b) (frugal : is_frugal_body (thrift_of p) b ≡ true) where
    own_shaped : (apart : Apart) × AreApart p program.types.items (λ t. false) apart × (body_shuns p.types (λ t. false) apart b ≡ true)
    own_shaped =
        let one = subst (λ (found : Option BodyForm). is_frugal_one p found ≡ true) (sym there) (operation_more p b frugal) in
        let among = shunning_from p (λ t. false) number one (λ u is below. absurd (cc is)) in
        (apart_from program (λ t. false), shaped (λ t. false), (shaped (λ t. false)).bodies number b among there)

-- The body of a Finalize of a part of an object, whose end does not reach some access types, shuns those types, and so do all that it calls and the operations of
-- what it frees, allocates and declares.
pub finalize_shuns :
    (program : Program) → IsWellFormed (program_form program) → operations_may_be_called (program_form program) ≡ true
    → (access of part number : ℕ) (shuns : ℕ → Bool) (b : BodyForm) → IsOperable (program_form program).types access of part
    → procedure_number (operations_of program.types.items of).finalize ≡ Some number
    → slice_get (body_forms program) number ≡ Some b → ((t : ℕ) → shuns t ≡ true → (implicit_of (program_form program)).end_reaches access t ≡ false)
    → (apart : Apart) × AreApart (program_form program) program.types.items shuns apart
    × (body_shuns (program_form program).types shuns apart b ≡ true)
finalize_shuns program well uses access of part number shuns b operable overrides there reaches =
    let p = program_form program in
    let all = all_apart program well uses shuns in
    let none = none_from p shuns (λ u. (implicit_of p).end_reaches access u) (λ u is within. reaches u is) in
    (apart_from program shuns, all, all.bodies number b (end_shuns program well uses shuns access of part number operable overrides none) there)

-- The frugal body of a procedure has the shape of bodies that shun types, and so have all that it calls, and the operations of what it frees, allocates and
-- declares.
pub body_is_shaped :
    (program : Program) → IsWellFormed (program_form program) → operations_may_be_called (program_form program) ≡ true → (number : ℕ) (b : BodyForm)
    → slice_get (body_forms program) number ≡ Some b → is_frugal_body (thrift_of (program_form program)) b ≡ true
    → (apart : Apart) × AreApart (program_form program) program.types.items (λ t. false) apart
    × (body_shuns (program_form program).types (λ t. false) apart b ≡ true)
body_is_shaped = own_shaped
