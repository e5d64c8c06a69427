-- An assignment to a record with controlled parts begins, once both records are found.

use Rattle.std.proofs.Common.{◌≡◌, ℕ, suc, ◌+◌, ◌≤◌, Bool, true, false, List, [], ◌∷◌, Option, Some, None, refl, sym, ap, ◌∙◌, inl, subst, arith}
use Rattle.std.specs.Prelude.{◌==◌, ◌&&◌}
use Rattle.std.specs.List.{slice_get}
use Rattle.ada_program.specs.declared.program.TypeDefinition.{TypeDefinition}
use Rattle.ada_program.specs.Controlled.{number_of, shapes_of}
use Rattle.ada_program.specs.Typed.{width_of}
use Rattle.ada_parts.specs.declared.tasks.Direction.TheVariants.{PartsFirst, WholeFirst}
use Rattle.ada_parts.specs.Shape.{Shape, IsTable}
use Rattle.ada_parts.specs.Part.{numbers}
use Rattle.ada_parts.specs.Task.{Task}
use Rattle.ada_parts.specs.Law.{parts_left}
use Rattle.ada_meaning.specs.declared.event.Birth.TheVariants.{Adjustment}
use Rattle.ada_meaning.specs.declared.event.Cause.TheVariants.{Assigning}
use Rattle.ada_meaning.specs.declared.state.Id.{Id}
use Rattle.ada_meaning.specs.declared.state.Place.{Place}
use Rattle.ada_meaning.specs.declared.state.Value.{Value}
use Rattle.ada_meaning.specs.declared.state.Value.TheVariants.{Null, Names, Scalar, Part}
use Rattle.ada_meaning.specs.declared.state.Mode.TheVariants.{Running}
use Rattle.ada_meaning.specs.Frame.{begins, ends}
use Rattle.ada_meaning.specs.Frame as frame
use Rattle.ada_meaning.specs.Event.{Quiet}
use Rattle.ada_meaning.specs.State.{Activation, Master}
use Rattle.ada_meaning.specs.Step.{first_or, older, operands, operands_of, with_operands, newest, popped, tasks_in, treating, assigning as assigning_state, assigns_next}
use Rattle.ada_meaning.specs.Named.{State, named, same}
use Rattle.ada_meaning.proofs.Treatments.{are_table}
use Rattle.ada_storage.specs.State.{Forest, all_in, in_list, in_forest}
use Rattle.ada_storage.specs.State as storage
use Rattle.ada_storage.specs.Step.{goes, step, Simple, copies, copies_by, all_alive, at, at_assignment}
use Rattle.ada_storage.proofs.Invariant.{Alive, after}
use Rattle.ada_following.specs.Forests.{forest_in, forest_adjusted, Ends}
use Rattle.ada_following.specs.Reading.{is_out}
use Rattle.ada_following.proofs.Forests.{simple_at}
use Rattle.ada_following.proofs.Heaps.{Heap}
use Rattle.ada_following.proofs.Frames.{Control, static, listing, IsRecord, Lacks, Reads, code}
use Rattle.ada_following.proofs.Stands.{IsLive, KeptBehind, codes, assigning, failing}
use Rattle.ada_following.proofs.Stands as stands
use Rattle.ada_following.proofs.Goings.{by_running, Silent, stands_still, one_more, then_silent, goes_silent}
use Rattle.ada_following.proofs.Treating.{done_ends}
use Rattle.ada_following.proofs.Creating.{Settles, starts_ending_in, facts_at}
use Rattle.ada_following.proofs.Coding.{reads_callers, read_follows}
use Rattle.ada_following.proofs.Treated.{AllFollow, with_all, after_all}
use Rattle.ada_following.proofs.PartsLeft.{beside, opened_counts, in_beside, alive_among, they_live, among_le, is_among, has_dead, only_alive, all_have}
use Rattle.ada_following.proofs.Assigning.{record_is, record_forest, record_none, adjusts_next, starts_adjusting, adjusts_done}
use Rattle.ada_following.proofs.Assignments.{older_operands}
use Rattle.ada_following.proofs.Follows.{Facts, Follows}

-- The operands of an assignment.
live_newest : (h : Heap) (vs : List Value) → KeptBehind h true vs → IsLive h (first_or Null (older vs))
live_newest h [] kept = tt
live_newest h (v ∷ []) kept = tt
live_newest h (v ∷ w ∷ vs) kept = kept

live_target : (h : Heap) (running : List (Activation Value)) → KeptBehind h true (operands_of running) → IsLive h (first_or Null (operands_of (with_operands (older (operands_of running)) running)))
live_target h [] kept = tt
live_target h (a ∷ rest) kept = live_newest h a.operands kept

kept_operands : (running : List (Activation Value)) (p : Id) (place : Place) → first_or Null (operands_of running) ≡ Part p place → (us vs ws : List Value) → operands_of (with_operands us (with_operands vs (with_operands ws running))) ≡ us
kept_operands [] p place e us vs ws = absurd (cc e)
kept_operands (a ∷ rest) p place e us vs ws = refl

-- What is to be finalized of a record.
module _ (shapes : List Shape) (table : IsTable shapes) where
  counts_in : (d : Option ℕ) (first q : ℕ) → in_list q (numbers (parts_left shapes (tasks_in shapes WholeFirst d first))) ≡ in_forest q (forest_in shapes d first)
  counts_in None first q = refl
  counts_in (Some t) first q = opened_counts shapes table q t first

  simple_in : (d : Option ℕ) (first q : ℕ) → in_forest q (forest_in shapes d first) ≤ 1
  simple_in None first q = omega arith
  simple_in (Some t) first q = simple_at shapes t first q

module _
    (types : List TypeDefinition) (x : State) (s : storage.State) (h : Heap) (ms : List Master) (t : ℕ) (k : Control) (M : storage.Master) (c : storage.Control)
    (reads : Reads types (static h) false (listing h) s.alive (older x.activations) k ms (storage.acts M c)) (is : s.control ≡ storage.acts M c) (run : s.mode ≡ storage.running) (f : Facts types h ms x.next s)
  where
    abbrev found : State
    found = with_all x h ms Running k

    abbrev taken : State
    taken = popped (popped found)

    same_callers : (vs : List Value) → older (with_operands vs (with_operands (older (operands_of (with_operands (older (operands_of x.activations)) x.activations))) (with_operands (older (operands_of x.activations)) x.activations))) ≡ older x.activations
    same_callers vs =
        older_operands vs (with_operands (older (operands_of (with_operands (older (operands_of x.activations)) x.activations))) (with_operands (older (operands_of x.activations)) x.activations))
        ∙ older_operands (older (operands_of (with_operands (older (operands_of x.activations)) x.activations))) (with_operands (older (operands_of x.activations)) x.activations)
        ∙ older_operands (older (operands_of x.activations)) x.activations

    -- The target and the source.
    module _ (o p : Id) (place other : Place) (is_source : newest named found ≡ Part p other) (out : is_out (slice_get h o.0) ≡ true) where
      abbrev after_it : State
      after_it = assigning_state named types t (Part o place) (Part p other) taken

      abbrev shapes : List Shape
      shapes = shapes_of types

      abbrev record_number : Option ℕ
      record_number = number_of types (Some t)

      abbrev parts : Forest
      parts = forest_in shapes record_number place.part

      abbrev to_end : List Task
      to_end = tasks_in shapes WholeFirst record_number place.part

      abbrev to_adjust : List Task
      to_adjust = tasks_in shapes PartsFirst record_number place.part

      is_newest : operands after_it ≡ Names p ∷ operands taken
      is_newest = kept_operands x.activations p other is_source (Names p ∷ operands taken) _ _

      -- what comes behind the finalization
      abbrev behind : List Task → Control
      behind lasts = frame.Copies other.component t ∷ frame.StoresRecord (Names o) place.component (width_of types t) ∷ treating (Names o) (begins (Adjustment x.next) []) lasts k

      -- storage assigns to these parts
      abbrev with_copied : Forest → storage.State
      with_copied g = record s { control = storage.assigns s.next o.0 g (g ∷ []) (storage.acts M c); next = suc s.next }

      copies_step : (g : Forest) (simple : Simple g) → all_alive (s.alive o.0) g ≡ true → step (copies o.0 g simple) s ≡ goes storage.quiet (with_copied g)
      copies_step g simple alive =
          by_running s (storage.acts M c) (copies o.0 g simple) storage.quiet (with_copied g) is run
          (ap (λ (b : Bool). copies_by b (all_alive (s.alive o.0) g) o.0 g M c s) (f.out o.0 ∙ out)
          ∙ ap (λ (b : Bool). copies_by true b o.0 g M c s) alive)

      copied_facts : (l : storage.Control) (g : Forest) → Facts types h ms (x.next + 1) (at l (with_copied g))
      copied_facts l g = let number = f.next in record { out = f.out; shape = record { shape = f.shape.shape; alive = f.shape.alive; turn = f.shape.turn }; created = f.created; next = omega (arith, number); sound = f.sound }

      -- what is read behind, once all these have values
      read_after : (g : Forest) → all_alive (s.alive o.0) g ≡ true → Reads types (static h) false (listing h) (after s.alive o.0 g) (older after_it.activations) k ms (storage.acts M c)
      read_after g alive =
          reads_callers (same_callers _)
          (subst (λ (A : Alive). Reads types (static h) false (listing h) A (older x.activations) k ms (storage.acts M c)) (λ i y q. sym (after_all s.alive o.0 g (all_have (s.alive o.0) g alive) y q) i) reads)

      comes_to : (lasts : List Task) (r1 : storage.State) → lasts ≡ to_adjust → Silent s r1 → Settles types after_it.activations h ms (x.next + 1) (treating (Names o) (ends (Assigning x.next)) to_end (behind lasts)) r1 → Follows types s Quiet after_it
      comes_to lasts r1 same_lasts steps z =
          let y = subst (λ (ls : List Task). Settles types after_it.activations h ms (x.next + 1) (treating (Names o) (ends (Assigning x.next)) to_end (behind ls)) r1) same_lasts z in
          record { reached = r1; to = y.state; goes = goes_silent s r1 steps; later = y.steps; arrived = y.arrived }

      -- All parts of the record have values.
      settles_all :
          (lasts : List Task) (left : List Forest) (r1 : storage.State) → IsRecord lasts → forest_adjusted shapes lasts ≡ parts → (lasts ≡ [] → to_end ≡ []) → Ends shapes left to_end → r1.alive ≡ s.alive
          → r1.control ≡ storage.assigns (suc x.next) o.0 parts left (storage.acts M c) → r1.mode ≡ storage.running → Facts types h ms (x.next + 1) r1 → all_alive (s.alive o.0) parts ≡ true
          → Settles types after_it.activations h ms (x.next + 1) (treating (Names o) (ends (Assigning x.next)) to_end (behind lasts)) r1
      settles_all (last ∷ lasts) left r1 record_is same_forest none e same_alive is_r run_r facts alive = record {
        state = r1;
        steps = stands_still r1 r1 refl;
        arrived =
            record {
              control = storage.assigns (suc x.next) o.0 (forest_adjusted shapes (last ∷ lasts)) left (storage.acts M c);
              moded = storage.running;
              is_control = is_r ∙ ap (λ (g : Forest). storage.assigns (suc x.next) o.0 g left (storage.acts M c)) (sym same_forest);
              is_moded = run_r;
              stands =
                  assigning o p (operands taken) other.component t place.component (width_of types t) x.next last lasts to_end left is_newest record_is e tt
                  (subst (λ (A : Alive). Reads types (static h) false (listing h) (after A o.0 (forest_adjusted shapes (last ∷ lasts))) (older after_it.activations) k ms (storage.acts M c)) (sym same_alive)
                  (read_after (forest_adjusted shapes (last ∷ lasts)) (ap (all_alive (s.alive o.0)) same_forest ∙ alive))) refl;
              facts = facts;
            };
      }
      settles_all [] left r1 record_is same_forest none e same_alive is_r run_r facts alive =
          let table = are_table types in
          let K = storage.acts M c in
          let left_none : Ends shapes left [] = subst (Ends shapes left) (none refl) e in
          let r2 = at (storage.assigns (suc x.next) o.0 parts [] K) r1 in
          let r3 = at (storage.adjusts o.0 parts (all_in parts ∷ []) [] K) r1 in
          let more = starts_adjusting shapes table o.0 parts K [] r3 tt same_forest refl run_r in
          let r4 = at (storage.adjusts o.0 parts more.jobs [] K) r1 in
          let r5 = at K r1 in
          record {
            state = r5;
            steps =
                then_silent r1 r2 r5 (done_ends shapes table (at_assignment (suc x.next) parts K) o.0 (λ c fs q. refl) r1 left is_r run_r left_none)
                (then_silent r2 r3 r5 (adjusts_next shapes table o.0 parts K (suc x.next) r2 refl run_r)
                (then_silent r3 r4 r5 more.steps (adjusts_done shapes table o.0 parts K more.jobs [] r4 refl run_r more.left)));
            arrived =
                record {
                  control = K;
                  moded = storage.running;
                  is_control = refl;
                  is_moded = run_r;
                  stands =
                      subst (λ (ts : List Task). stands.Stands types h r1.alive after_it.activations ms Running (treating (Names o) (ends (Assigning x.next)) ts (behind [])) K storage.running) (sym (none refl))
                      (codes (code tt (code tt (reads_callers (same_callers _) (subst (λ (A : Alive). Reads types (static h) false (listing h) A (older x.activations) k ms K) (sym same_alive) reads)))));
                  facts = facts_at K facts;
                };
          }

      all_there : all_alive (s.alive o.0) parts ≡ true → Follows types s Quiet after_it
      all_there alive =
          let table = are_table types in
          let simple : Simple parts = simple_in shapes table record_number place.part in
          let s1 = with_copied parts in
          let K = storage.acts M c in
          let at_s1 : s1.control ≡ storage.assigns (suc x.next) o.0 parts (parts ∷ []) K = ap (λ (i : ℕ). storage.assigns i o.0 parts (parts ∷ []) K) f.next in
          let more = starts_ending_in shapes table (at_assignment (suc x.next) parts K) o.0 (λ c fs q. refl) record_number place.part s1 at_s1 run in
          let c1 = storage.assigns (suc x.next) o.0 parts more.forests K in
          let r1 = at c1 s1 in
          comes_to to_adjust r1 refl (one_more s s1 r1 (copies o.0 parts simple) (copies_step parts simple alive) more.steps)
          (settles_all to_adjust more.forests r1 (record_is shapes table record_number place.part) (record_forest shapes table record_number place.part) (record_none shapes table record_number place.part) more.left refl refl run (copied_facts c1 parts) alive)

      -- Some has none.
      fails_by :
          (lasts : List Task) (left : List ℕ) (r1 : storage.State) → IsRecord lasts → (lasts ≡ [] → to_end ≡ []) → Lacks types s.alive o.0 to_end left → all_alive (s.alive o.0) (beside left) ≡ true → r1.alive ≡ s.alive
          → r1.control ≡ storage.assigns (suc x.next) o.0 (beside left) (beside left ∷ []) (storage.acts M c) → r1.mode ≡ storage.running → Facts types h ms (x.next + 1) r1
          → Settles types after_it.activations h ms (x.next + 1) (treating (Names o) (ends (Assigning x.next)) to_end (behind lasts)) r1
      fails_by [] left r1 record_is none lacks alive same_alive at_r1 run_r facts =
          let some = lacks.to_end in
          let nothing = ap (λ (ts : List Task). in_list lacks.dead (numbers (parts_left shapes ts))) (none refl) in
          absurd (omega (arith, some, nothing))
      fails_by (last ∷ lasts) left r1 record_is none lacks alive same_alive at_r1 run_r facts = record {
        state = r1;
        steps = stands_still r1 r1 refl;
        arrived =
            record {
              control = storage.assigns (suc x.next) o.0 (beside left) (beside left ∷ []) (storage.acts M c);
              moded = storage.running;
              is_control = at_r1;
              is_moded = run_r;
              stands =
                  failing o p (operands taken) other.component t place.component (width_of types t) x.next last lasts to_end left left (beside left ∷ []) is_newest record_is
                  (subst (λ (A : Alive). Lacks types A o.0 to_end left) (sym same_alive) lacks) (inl refl) tt
                  (subst (λ (A : Alive). Reads types (static h) false (listing h) (after A o.0 (beside left)) (older after_it.activations) k ms (storage.acts M c)) (sym same_alive) (read_after (beside left) alive)) refl;
              facts = facts;
            };
      }

      some_lacks : all_alive (s.alive o.0) parts ≡ false → Follows types s Quiet after_it
      some_lacks dead =
          let table = are_table types in
          let A = s.alive o.0 in
          let ps = numbers (parts_left shapes to_end) in
          let left = alive_among A ps in
          let simple : Simple (beside left) = λ q.
          let a = in_beside q left in
          let b = among_le A q ps in
          let d = counts_in shapes table record_number place.part q in
          let e = simple_in shapes table record_number place.part q in
          omega (arith, a, b, d, e) in
          let one = has_dead A parts dead in
          let lacks : Lacks types s.alive o.0 to_end left =
          record {
            dead = one.part;
            to_end = (let some = one.there in let d = counts_in shapes table record_number place.part one.part in omega (arith, some, d));
            is_dead = only_alive A one.part ps one.dead;
            others = λ q some lives. is_among A q ps lives some;
          } in
          let s1 = with_copied (beside left) in
          let c1 = storage.assigns (suc x.next) o.0 (beside left) (beside left ∷ []) (storage.acts M c) in
          let r1 = at c1 s1 in
          comes_to to_adjust r1 refl
          (one_more s s1 r1 (copies o.0 (beside left) simple) (copies_step (beside left) simple (they_live A ps))
          (stands_still s1 r1 (λ i. record s1 { control = storage.assigns (f.next i) o.0 (beside left) (beside left ∷ []) (storage.acts M c) })))
          (fails_by to_adjust left r1 (record_is shapes table record_number place.part) (record_none shapes table record_number place.part) lacks (they_live A ps) refl refl run (copied_facts c1 (beside left)))

      begins_by : (alive : Bool) → all_alive (s.alive o.0) parts ≡ alive → Follows types s Quiet after_it
      begins_by true alive = all_there alive
      begins_by false alive = some_lacks alive

      decided : (same_one : Bool) → AllFollow types s (assigns_next named types t (Part o place) (Part p other) (Some same_one) taken)
      decided true = read_follows types s Quiet taken refl h ms x.next M c is f Running storage.running k (codes (reads_callers (older_operands _ (with_operands (older (operands_of x.activations)) x.activations) ∙ older_operands _ x.activations) reads)) refl refl refl refl refl
      decided false = begins_by (all_alive (s.alive o.0) parts) refl

    both_found : (target source : Value) → newest named found ≡ source → IsLive h target → AllFollow types s (assigns_next named types t target source (same target source) taken)
    both_found Null source e live = λ b. b
    both_found (Names o) source e live = λ b. b
    both_found (Scalar v) source e live = λ b. b
    both_found (Part o place) Null e live = λ b. b
    both_found (Part o place) (Names p) e live = λ b. b
    both_found (Part o place) (Scalar v) e live = λ b. b
    both_found (Part o place) (Part p other) e live = decided o p place other e live ((o.0 == p.0) && (place.part == other.part))

    pub assigned_follows : KeptBehind h true (operands x) → AllFollow types s (assigns_next named types t (newest named (popped found)) (newest named found) (same (newest named (popped found)) (newest named found)) taken)
    assigned_follows kept = both_found (newest named (popped found)) (newest named found) refl (live_target h x.activations kept)
