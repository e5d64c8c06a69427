-- An assignment to a record of which some part has no value, as in a program that is not well formed: parts that have one are finalized up to there.

use Rattle.std.proofs.Common.{◌≡◌, ◌≢◌, ℕ, suc, ◌<◌, ◌≤◌, Bool, true, false, if◌then◌else◌, List, [], ◌∷◌, ◌++◌, length, Option, Some, None, refl, sym, ap, ◌∙◌, inl, inr, subst, arith}
use Rattle.std.specs.List.{remove, slice_get}
use Rattle.ada_program.specs.declared.program.TypeDefinition.{TypeDefinition}
use Rattle.ada_program.specs.Controlled.{shapes_of, operations_of, procedure_number}
use Rattle.ada_program.specs.ProgramForm.{BodyForm}
use Rattle.ada_parts.specs.declared.tasks.Component.{Component}
use Rattle.ada_parts.specs.declared.tasks.Direction.TheVariants.{WholeFirst}
use Rattle.ada_parts.specs.Part.{numbers}
use Rattle.ada_parts.specs.Task.{Task, performs, treats, treatment_of, opened, opened_if, taken, next as task_next}
use Rattle.ada_parts.specs.Law.{parts_left}
use Rattle.ada_meaning.specs.declared.event.Cause.TheVariants.{Assigning}
use Rattle.ada_meaning.specs.declared.event.Halt.TheVariants.{Erroneous}
use Rattle.ada_meaning.specs.declared.event.Why.TheVariants.{FinalizesTwice}
use Rattle.ada_meaning.specs.declared.state.Id.{Id}
use Rattle.ada_meaning.specs.declared.state.Value.{Value}
use Rattle.ada_meaning.specs.declared.state.Value.TheVariants.{Names}
use Rattle.ada_meaning.specs.declared.state.Mode.TheVariants.{Running}
use Rattle.ada_meaning.specs.Event.{Finalized, Quiet}
use Rattle.ada_meaning.specs.Frame.{ends}
use Rattle.ada_meaning.specs.Frame as frame
use Rattle.ada_meaning.specs.Heap.{PartState, Cell, Found, on_null, on_gone, on_other, finds}
use Rattle.ada_meaning.specs.State.{Master}
use Rattle.ada_meaning.specs.Step.{older, operands_of, picked_task, member_at, halts, treating, treated_on, treats_next, performed_next, finalized_next, ended_next, part_reference}
use Rattle.ada_meaning.specs.Named.{Object, State, named, look, on_object, treated, finalized_part}
use Rattle.ada_meaning.proofs.Treatments.{member_within, are_table}
use Rattle.ada_storage.specs.State.{Forest, none, tree, same, in_list, in_forest, in_forests, kids_of, others_of, put_part}
use Rattle.ada_storage.specs.State as storage
use Rattle.ada_storage.specs.Step.{Choice, goes_on, enters, at, dies, at_assignment, finalize_by, frame as ending_frame, ends as ends_by}
use Rattle.ada_storage.specs.Step as does
use Rattle.ada_storage.specs.Following.{Goes}
use Rattle.ada_storage.proofs.Facts.{same_self, same_other, part_here, part_other}
use Rattle.ada_storage.proofs.Invariant.{Alive, after, Fits}
use Rattle.ada_following.specs.Reading.{event_seen}
use Rattle.ada_following.proofs.Heaps.{Heap}
use Rattle.ada_following.proofs.Frames.{Control, Static, static, listing, IsRecord, copying, IsActing, Lacks, Reads, treats_behind, assigns}
use Rattle.ada_following.proofs.Frames as frames
use Rattle.ada_following.proofs.Stands.{AreBeside, failing}
use Rattle.ada_following.proofs.Goings.{Holds, Silent, by_running, by_step, stands_still, then_silent, then_goes, goes_silent}
use Rattle.ada_following.proofs.Heads.{looked}
use Rattle.ada_following.proofs.Treating.{lets_go, takes_one}
use Rattle.ada_following.proofs.Creating.{facts_at}
use Rattle.ada_following.proofs.PartsLeft.{beside, taken_counts, in_beside, top_beside, kids_beside, others_beside, but_one, in_but_one, one_less}
use Rattle.ada_following.proofs.Treated.{AllFollow, with_all, picks_or_stuck, there_is, after_put, has_part, static_treated, listing_treated, alive_is, turn_is, finalized_facts, operation_follows}
use Rattle.ada_following.proofs.Follows.{Facts, Follows, reads_same}

module _
    (types : List TypeDefinition) (bodies : List BodyForm) (x : State) (s : storage.State) (h : Heap) (ms : List Master) (o p : Id) (us : List Value) (base t first count n : ℕ) (last : Task) (lasts : List Task)
    (ps qs : List ℕ) (left : List Forest) (k : Control) (c : storage.Control) (acting : IsActing c) (is_newest : operands_of x.activations ≡ Names p ∷ us) (record_is : IsRecord (last ∷ lasts)) (are : AreBeside qs left)
    (reads : Reads types (static h) false (listing h) (after s.alive o.0 (beside ps)) (older x.activations) k ms c)
    (is : s.control ≡ storage.assigns (suc n) o.0 (beside ps) left c) (run : s.mode ≡ storage.running) (f : Facts types h ms x.next s) (holds : Holds s)
  where
    -- what is left behind the finalization
    abbrev behind : Control
    behind = copying o base t first count n last lasts k

    fits : Fits s.alive s.objects (storage.assigns (suc n) o.0 (beside ps) left c)
    fits = subst (λ (d : storage.Control). Fits s.alive s.objects d) is holds.fits

    counted : (q : ℕ) → in_forests q left ≡ in_list q qs
    counted q = go are
      where
        go : AreBeside qs left → in_forests q left ≡ in_list q qs
        go (inl e) = let d = ap (in_forests q) e in let b = in_beside q qs in omega (arith, d, b)
        go (inr e) = let d = ap (in_forests q) e in let b = in_beside q qs in omega (arith, d, b)

    once : (q : ℕ) → in_list q qs ≤ 1
    once q = let a = fits.1 q in let b = fits.2 q in let d = counted q in omega (arith, a, b, d)

    -- storage takes up these parts
    abbrev taken_up : storage.State
    taken_up = at (storage.assigns (suc n) o.0 (beside ps) (beside qs ∷ []) c) s

    takes_up : Silent s taken_up
    takes_up = go are
      where
        go : AreBeside qs left → Silent s taken_up
        go (inl e) = stands_still s taken_up (λ i. record s { control = (is ∙ ap (λ (fs : List Forest). storage.assigns (suc n) o.0 (beside ps) fs c) e) i })
        go (inr e) =
            lets_go (shapes_of types) (are_table types) (at_assignment (suc n) (beside ps) c) o.0 (λ c fs q. refl) s none (beside qs ∷ [])
            (is ∙ ap (λ (fs : List Forest). storage.assigns (suc n) o.0 (beside ps) fs c) e) run refl

    pick_fails :
        (cs : List Component) (rest : List Task) → Lacks types s.alive o.0 (treats cs ∷ rest) qs → (i : ℕ) → i < length cs
        → Follows types s Quiet (treated_on named (Names o) (ends (Assigning n)) (taken (shapes_of types) WholeFirst (treats cs ∷ rest) i) (with_all x h ms Running behind))
    pick_fails cs rest lacks i lt =
        let one = there_is cs i lt in
        let tasks = taken (shapes_of types) WholeFirst (treats cs ∷ rest) i in
        let all : tasks ≡ opened (shapes_of types) WholeFirst one.0.of one.0.first ++ (treatment_of (remove cs i) ++ rest) =
        ap (λ (d : Option Component). opened_if (shapes_of types) WholeFirst d ++ (treatment_of (remove cs i) ++ rest)) one.1 in
        let same_counts : (q : ℕ) → in_list q (numbers (parts_left (shapes_of types) tasks)) ≡ in_list q (numbers (parts_left (shapes_of types) (treats cs ∷ rest))) = λ q.
        ap (λ (ts : List Task). in_list q (numbers (parts_left (shapes_of types) ts))) all ∙ taken_counts (shapes_of types) (are_table types) q cs rest i one.0 one.1 in
        record {
          reached = s;
          to = s;
          goes = goes_silent s s (stands_still s s refl);
          later = stands_still s s refl;
          arrived =
              record {
                control = storage.assigns (suc n) o.0 (beside ps) left c;
                moded = storage.running;
                is_control = is;
                is_moded = run;
                stands =
                    failing o p us base t first count n last lasts tasks ps qs left is_newest record_is
                    (record {
                      dead = lacks.dead;
                      to_end = (let some = lacks.to_end in let e = same_counts lacks.dead in omega (arith, some, e));
                      is_dead = lacks.is_dead;
                      others = λ q some lives. lacks.others q (let e = same_counts q in omega (arith, some, e)) lives;
                    })
                    are acting reads refl;
                facts = f;
              };
        }

    -- The value of a part is finalized.
    module _ (object : Object) (u part : ℕ) (q : PartState) (rest : List Task) (there : slice_get h o.0 ≡ Some object) (part_there : slice_get object.cell.parts part ≡ Some q) (alive : q.alive ≡ true) (lacks : Lacks types s.alive o.0 (performs u part ∷ rest) qs) where
      abbrev g : Heap
      g = on_object (treated finalized_part part) h (Names o)

      abbrev G : Forest
      G = beside qs

      lives : s.alive o.0 part ≡ true
      lives = alive_is types h ms x.next o part object q there part_there s f ∙ alive

      left_some : 0 < in_list part qs
      left_some = lacks.others part (let self = same_self part in omega (arith, self)) lives

      in_target : 0 < in_forest part (beside ps)
      in_target = let a = fits.1 part in let b = counted part in let some = left_some in omega (arith, a, b, some)

      none_left : in_list part (but_one part qs) ≡ 0
      none_left = let a = one_less part part qs left_some in let self = same_self part in let le = once part in omega (arith, a, self, le)

      facts : Facts types g ms x.next (dies o.0 part s)
      facts = finalized_facts types h ms x.next o part object q there part_there s f

      abbrev s1 : storage.State
      s1 = at (storage.assigns (suc n) o.0 (beside ps) (tree part (kids_of part G) none ∷ others_of part G ∷ []) c) s

      abbrev K : storage.Control
      K = storage.assigns (suc n) o.0 (beside ps) (kids_of part G ∷ others_of part G ∷ []) c

      abbrev K1 : storage.Control
      K1 = storage.assigns (suc n) o.0 (beside ps) (none ∷ beside (but_one part qs) ∷ []) c

      same_control : K ≡ K1
      same_control =
          ap (λ (e : Forest). storage.assigns (suc n) o.0 (beside ps) (e ∷ others_of part G ∷ []) c) (kids_beside part qs)
          ∙ ap (λ (e : Forest). storage.assigns (suc n) o.0 (beside ps) (none ∷ e ∷ []) c) (others_beside part qs)

      shown : event_seen (Finalized (Names o) part q.turn u q.number (Assigning n)) ≡ storage.finalized (does.value_at o.0 part s) (storage.assigning (suc n))
      shown = ap (λ (j : ℕ). storage.finalized (record { object = o.0; part = part; turn = j }) (storage.assigning (suc n))) (sym (turn_is types h ms x.next o part object q there part_there s f))

      goes_by :
          (choice : Choice) (code : Bool) → ends_by (tree part (kids_of part G) none ∷ others_of part G ∷ []) choice (at_assignment (suc n) (beside ps) c) o.0 s1 ≡ does.finalize code o.0 part (storage.assigning (suc n)) K s1
          → Goes (event_seen (Finalized (Names o) part q.turn u q.number (Assigning n))) s (does.performed code K1 (dies o.0 part s))
      goes_by choice code now =
          subst (λ (ev : storage.Event). Goes ev s (does.performed code K1 (dies o.0 part s))) (sym shown)
          (subst (λ (l : storage.Control). Goes (storage.finalized (does.value_at o.0 part s) (storage.assigning (suc n))) s (does.performed code l (dies o.0 part s))) same_control
          (then_goes s s1 (performed_from code) _
          (then_silent s taken_up s1 takes_up (takes_one (shapes_of types) (are_table types) (at_assignment (suc n) (beside ps) c) o.0 (λ c fs q. refl) taken_up part G [] refl run (top_beside part qs left_some)))
          (by_step s1 choice _ (performed_from code)
          (by_running s1 s1.control choice _ _ refl run (now ∙ ap (λ (b : Bool). finalize_by b code o.0 part (storage.assigning (suc n)) K s1) lives ∙ same_performed code)))))
        where
          performed_from : Bool → storage.State
          performed_from code = does.performed code K (dies o.0 part s)

          same_performed : (code : Bool) → does.goes (storage.finalized (does.value_at o.0 part s) (storage.assigning (suc n))) (does.performed code K (dies o.0 part s1)) ≡ does.goes (storage.finalized (does.value_at o.0 part s) (storage.assigning (suc n))) (does.performed code K (dies o.0 part s))
          same_performed true = refl
          same_performed false = refl

      lacks_still : Lacks types (put_part s.alive o.0 part false) o.0 rest (but_one part qs)
      lacks_still =
          let apart : lacks.dead ≢ part = λ e. let some = left_some in let d = ap (λ (i : ℕ). in_list i qs) e in let z = lacks.is_dead in omega (arith, some, d, z) in
          record {
            dead = lacks.dead;
            to_end = (let some = lacks.to_end in let z = same_other lacks.dead part apart in omega (arith, some, z));
            is_dead = (let a = one_less lacks.dead part qs left_some in let z = lacks.is_dead in omega (arith, a, z));
            others = λ d some lives_still.
                let ne : d ≢ part = λ e. let both : true ≡ false = sym lives_still ∙ ap (λ (i : ℕ). put_part s.alive o.0 part false o.0 i) e ∙ part_here s.alive o.0 part false in absurd (cc both) in
                in_but_one d part qs ne (lacks.others d (omega (arith, some)) (sym (part_other s.alive o.0 part false o.0 d ne) ∙ lives_still));
          }

      dying : Reads types (static g) false (listing g) (after (put_part s.alive o.0 part false) o.0 (beside ps)) (older x.activations) k ms c
      dying =
          reads_same (static_treated types h ms x.next o part object q there part_there finalized_part) (listing_treated types h ms x.next o part object q there part_there finalized_part)
          (subst (λ (A : Alive). Reads types (static h) false (listing h) A (older x.activations) k ms c) (sym (after_put s.alive o.0 part false (beside ps) in_target)) reads)

      operation_fails : (operation : Option ℕ) → AllFollow types s (ended_next named bodies (Names o) part q (treating (Names o) (ends (Assigning n)) rest behind) operation (Finalized (Names o) part q.turn u q.number (Assigning n)) (with_all x g ms Running behind))
      operation_fails None =
          let r = at K1 (dies o.0 part s) in
          record {
            reached = r;
            to = r;
            goes = goes_by goes_on false refl;
            later = stands_still r r refl;
            arrived =
                record {
                  control = K1;
                  moded = storage.running;
                  is_control = refl;
                  is_moded = run;
                  stands = failing o p us base t first count n last lasts rest ps (but_one part qs) (none ∷ beside (but_one part qs) ∷ []) is_newest record_is lacks_still (inr refl) acting dying refl;
                  facts = facts_at K1 facts;
                };
          }
      operation_fails (Some procedure) =
          operation_follows types bodies x s (dies o.0 part s) g ms (frame.Confines ∷ treating (Names o) (ends (Assigning n)) rest behind) K1 (Finalized (Names o) part q.turn u q.number (Assigning n)) facts run
          (goes_by enters true refl)
          (treats_behind (assigns (suc n) o.0 (beside ps) (none ∷ beside (but_one part qs) ∷ []))
          (frames.failing o p us base t first count n last lasts rest ps (but_one part qs) part
          (ap (λ (S : Static). S.holds o.0 part) (static_treated types h ms x.next o part object q there part_there finalized_part) ∙ has_part types h ms x.next o part object q there part_there)
          in_target none_left is_newest record_is lacks_still refl)
          acting dying refl)
          procedure (slice_get bodies procedure) (part_reference named (Names o) part q) (with_all x g ms Running behind) refl refl refl refl refl

    alive_fails :
        (object : Object) (u part : ℕ) (q : PartState) (rest : List Task) → slice_get h o.0 ≡ Some object → slice_get object.cell.parts part ≡ Some q → Lacks types s.alive o.0 (performs u part ∷ rest) qs → (operation : Option ℕ) (alive : Bool) → q.alive ≡ alive
        → AllFollow types s (if alive then ended_next named bodies (Names o) part q (treating (Names o) (ends (Assigning n)) rest behind) operation (Finalized (Names o) part q.turn u q.number (Assigning n)) (with_all x (on_object (treated finalized_part part) h (Names o)) ms Running behind) else halts (Erroneous FinalizesTwice))
    alive_fails object u part q rest there part_there lacks operation true alive = operation_fails object u part q rest there part_there alive lacks operation
    alive_fails object u part q rest there part_there lacks operation false alive = λ b. b

    one_fails :
        (object : Object) (u part : ℕ) (rest : List Task) → slice_get h o.0 ≡ Some object → Lacks types s.alive o.0 (performs u part ∷ rest) qs → (operation : Option ℕ) (found : Option PartState) → slice_get object.cell.parts part ≡ found
        → AllFollow types s (finalized_next named bodies (Names o) (Assigning n) u part rest operation found (with_all x h ms Running behind))
    one_fails object u part rest there lacks operation None none_there = λ b. b
    one_fails object u part rest there lacks operation (Some q) some = alive_fails object u part q rest there some lacks operation q.alive refl

    performs_fail :
        (u part : ℕ) (rest : List Task) → Lacks types s.alive o.0 (performs u part ∷ rest) qs → (found : Found (Cell Value)) → look h (Names o) ≡ found
        → AllFollow types s (performed_next named types bodies (Names o) (ends (Assigning n)) u part rest found (with_all x h ms Running behind))
    performs_fail u part rest lacks on_null found = λ b. b
    performs_fail u part rest lacks on_gone found = λ b. b
    performs_fail u part rest lacks on_other found = λ b. b
    performs_fail u part rest lacks (finds cell) found =
        let l = looked h (Names o) cell found in
        let same_id : o ≡ l.o = cc in
        one_fails l.x u part rest (ap (λ (i : Id). slice_get h i.0) same_id ∙ l.there) lacks (procedure_number (operations_of types u).finalize) (slice_get cell.parts part) (ap (λ (d : Cell Value). slice_get d.parts part) l.lies)

    pub failing_follows :
        (task : Task) (rest : List Task) → Lacks types s.alive o.0 (task ∷ rest) qs
        → AllFollow types s (treats_next named types bodies (Names o) (ends (Assigning n)) (task ∷ rest) (task_next (task ∷ rest)) (with_all x h ms Running behind))
    failing_follows (treats cs) rest lacks =
        picks_or_stuck (Follows types s) (length cs) (λ i. treated_on named (Names o) (ends (Assigning n)) (picked_task (shapes_of types) WholeFirst (treats cs ∷ rest) i) (with_all x h ms Running behind))
        (λ i lt. pick_fails cs rest lacks (member_at WholeFirst (length cs) i) (member_within WholeFirst (length cs) i lt))
    failing_follows (performs u part) rest lacks = performs_fail u part rest lacks (look h (Names o)) refl
