-- Each step of an assignment to a record with controlled parts is followed.

use Rattle.std.proofs.Common.{◌≡◌, ℕ, suc, ◌<◌, ◌≤◌, true, false, List, [], ◌∷◌, Option, Some, None, refl, sym, ap, ◌∙◌, subst, arith}
use Rattle.std.specs.List.{slice_get}
use Rattle.ada_program.specs.declared.program.TypeDefinition.{TypeDefinition}
use Rattle.ada_program.specs.Controlled.{shapes_of}
use Rattle.ada_program.specs.Typed.{width_of}
use Rattle.ada_program.specs.ProgramForm.{BodyForm}
use Rattle.ada_parts.specs.Task.{Task, next as task_next}
use Rattle.ada_meaning.specs.declared.event.Birth.TheVariants.{Adjustment}
use Rattle.ada_meaning.specs.declared.event.Cause.TheVariants.{Assigning}
use Rattle.ada_meaning.specs.declared.state.Id.{Id}
use Rattle.ada_meaning.specs.declared.state.Value.{Value}
use Rattle.ada_meaning.specs.declared.state.Value.TheVariants.{Null, Names}
use Rattle.ada_meaning.specs.declared.state.Mode.TheVariants.{Running}
use Rattle.ada_meaning.specs.Frame.{begins, ends, Frame}
use Rattle.ada_meaning.specs.Frame as frame
use Rattle.ada_meaning.specs.Heap.{PartState, Cell, Found, on_gone, finds}
use Rattle.ada_meaning.specs.State.{Activation, Master}
use Rattle.ada_meaning.specs.Step.{older, operands_of, with_operands, first_or, newest, newest_ones, without_newest, popped, treating, treats_next, copied_next, copies_next, record_in, record_stored_next, store_record_next, stored_from}
use Rattle.ada_meaning.specs.Named.{Object, State, named, existing, seen, look, on_object, treated, finalized_part}
use Rattle.ada_meaning.specs.declared.state.Stage.{Stage}
use Rattle.ada_meaning.specs.declared.state.Stage.TheVariants.{Building, Existing, Gone}
use Rattle.ada_meaning.proofs.Treatments.{are_table}
use Rattle.ada_storage.specs.State.{Forest, all_in, put_part, in_forest, in_forests}
use Rattle.ada_storage.specs.State as storage
use Rattle.ada_storage.specs.Step.{at_assignment}
use Rattle.ada_storage.specs.Step as does
use Rattle.ada_storage.proofs.Invariant.{Alive, after, Fits}
use Rattle.ada_following.specs.Forests.{forest_adjusted, Ends}
use Rattle.ada_following.proofs.Heaps.{Heap, alike_stored}
use Rattle.ada_following.proofs.Frames.{Control, Static, static, listing, IsRecord, copying, IsActing, Reads, treats_behind, assigns, assigned_to}
use Rattle.ada_following.proofs.Stands.{assigning, storing, adjusting}
use Rattle.ada_following.proofs.Goings.{Holds, stands_still, then_silent, by_none, goes_silent}
use Rattle.ada_following.proofs.Treating.{done_ends}
use Rattle.ada_following.proofs.Creating.{Settles, facts_at}
use Rattle.ada_following.proofs.Coding.{reads_callers, facts_alike}
use Rattle.ada_following.proofs.Treated.{AllFollow, with_all, after_put, has_part, static_treated, listing_treated}
use Rattle.ada_following.proofs.Finishing.{DiesIn, as_before, without_value, finishing_follows}
use Rattle.ada_following.proofs.Follows.{Facts, reads_same, reads_alike}
use Rattle.ada_following.proofs.Assigning.{adjusts_next, starts_adjusting}

-- What waits behind the running body does not depend on what it has computed.
pub older_operands : (vs : List Value) (acts : List (Activation Value)) → older (with_operands vs acts) ≡ older acts
older_operands vs [] = refl
older_operands vs (a ∷ acts) = refl

-- A name is found, or what it named is gone.
data NameFound (found : Found (Cell Value)) : Type 0 where
  is_gone : found ≡ on_gone → NameFound found
  is_there : (cell : Cell Value) → found ≡ finds cell → NameFound found

stage_found : (x : Object) (stage : Stage) → NameFound (existing x stage)
stage_found x Building = is_there x.cell refl
stage_found x Existing = is_there x.cell refl
stage_found x Gone = is_gone refl

object_found : (found : Option Object) → NameFound (seen found)
object_found None = is_gone refl
object_found (Some x) = stage_found x x.stage

module _
    (types : List TypeDefinition) (bodies : List BodyForm) (x : State) (s : storage.State) (h : Heap) (ms : List Master) (o : Id) (n : ℕ) (last : Task) (lasts : List Task) (left : List Forest) (k : Control)
    (c : storage.Control) (acting : IsActing c) (record_is : IsRecord (last ∷ lasts)) (reads : Reads types (static h) false (listing h) (after s.alive o.0 (forest_adjusted (shapes_of types) (last ∷ lasts))) (older x.activations) k ms c)
    (is : s.control ≡ storage.assigns (suc n) o.0 (forest_adjusted (shapes_of types) (last ∷ lasts)) left c) (run : s.mode ≡ storage.running) (f : Facts types h ms x.next s)
  where
    abbrev F : Forest
    F = forest_adjusted (shapes_of types) (last ∷ lasts)

    -- The components are copied.
    module _ (p : Id) (us : List Value) (base t first count : ℕ) (is_newest : operands_of x.activations ≡ Names p ∷ us) where
      abbrev storing_next : Control
      storing_next = frame.StoresRecord (Names o) first count ∷ frame.Treats (Names o) (begins (Adjustment n) []) (last ∷ lasts) ∷ k

      abbrev before : State
      before = popped (with_all x h ms Running storing_next)

      module _ (e : Ends (shapes_of types) left []) where
        copied_follows : (v : Value) (found : Option (List Value)) → AllFollow types s (copied_next named v found before)
        copied_follows v None = λ b. b
        copied_follows v (Some values) = record {
          reached = s;
          to = s;
          goes = by_none s s refl;
          later = stands_still s s refl;
          arrived =
              record {
                control = storage.assigns (suc n) o.0 F left c;
                moded = storage.running;
                is_control = is;
                is_moded = run;
                stands =
                    storing o first count n last lasts left record_is e acting
                    (reads_callers (older_operands _ (with_operands (older (operands_of x.activations)) x.activations) ∙ older_operands (older (operands_of x.activations)) x.activations) reads);
                facts = f;
              };
        }

        found_follows : (found : Found (Cell Value)) → NameFound found → AllFollow types s (copies_next named (Names p) base (width_of types t) found before)
        found_follows found (is_gone g) = rw g (λ b. b)
        found_follows found (is_there cell g) = rw g (copied_follows (Names p) (record_in cell.values base (width_of types t)))

        pub copies_follow : AllFollow types s (copies_next named (newest named (with_all x h ms Running storing_next)) base (width_of types t) (look h (newest named (with_all x h ms Running storing_next))) before)
        copies_follow =
            let named_first : newest named (with_all x h ms Running storing_next) ≡ Names p = ap (λ (ws : List Value). first_or Null ws) is_newest in
            subst (λ (v : Value). AllFollow types s (copies_next named v base (width_of types t) (look h v) before)) (sym named_first)
            (found_follows (look h (Names p)) (object_found (slice_get h p.0)))

      -- The target is finalized.
      module _ (holds : Holds s) where
        fits : Fits s.alive s.objects (storage.assigns (suc n) o.0 F left c)
        fits = subst (λ (d : storage.Control). Fits s.alive s.objects d) is holds.fits

        once : (q : ℕ) → in_forests q left ≤ 1
        once q = let a = fits.1 q in let b = fits.2 q in omega (arith, a, b)

        module _ (q : ℕ) (object : Object) (u : PartState) (there : slice_get h o.0 ≡ Some object) (part_there : slice_get object.cell.parts q ≡ Some u) (some : 0 < in_forests q left) where
          abbrev g : Heap
          g = on_object (treated finalized_part q) h (Names o)

          in_target : 0 < in_forest q F
          in_target = let a = fits.1 q in omega (arith, a, some)

          dying : Reads types (static g) false (listing g) (after (put_part s.alive o.0 q false) o.0 F) (older x.activations) k ms c
          dying =
              reads_same (static_treated types h ms x.next o q object u there part_there finalized_part) (listing_treated types h ms x.next o q object u there part_there finalized_part)
              (subst (λ (A : Alive). Reads types (static h) false (listing h) A (older x.activations) k ms c) (sym (after_put s.alive o.0 q false F in_target)) reads)

        settles_by :
            (g : Heap) (A : Alive) → DiesIn h s.alive o left g A → (tasks : List Task) (fs : List Forest) (r : storage.State) → Ends (shapes_of types) fs tasks
            → r.alive ≡ A → r.control ≡ storage.assigns (suc n) o.0 F fs c → r.mode ≡ storage.running → Facts types g ms x.next r
            → Settles types x.activations g ms x.next (treating (Names o) (ends (Assigning n)) tasks (copying o base t first count n last lasts k)) r
        settles_by _ _ as_before tasks fs r e alive is_r run_r facts = record {
          state = r;
          steps = stands_still r r refl;
          arrived =
              record {
                control = storage.assigns (suc n) o.0 F fs c;
                moded = storage.running;
                is_control = is_r;
                is_moded = run_r;
                stands =
                    assigning o p us base t first count n last lasts tasks fs is_newest record_is e acting
                    (subst (λ (A : Alive). Reads types (static h) false (listing h) (after A o.0 F) (older x.activations) k ms c) (sym alive) reads) refl;
                facts = facts;
              };
        }
        settles_by _ _ (without_value q object u there part_there some) tasks fs r e alive is_r run_r facts =
            let g2 = on_object (treated finalized_part q) h (Names o) in
            record {
              state = r;
              steps = stands_still r r refl;
              arrived =
                  record {
                    control = storage.assigns (suc n) o.0 F fs c;
                    moded = storage.running;
                    is_control = is_r;
                    is_moded = run_r;
                    stands =
                        assigning o p us base t first count n last lasts tasks fs is_newest record_is e acting
                        (subst (λ (A : Alive). Reads types (static g2) false (listing g2) (after A o.0 F) (older x.activations) k ms c) (sym alive) (dying q object u there part_there some)) refl;
                    facts = facts;
                  };
            }

        waits_by :
            (q : ℕ) (object : Object) (u : PartState) → slice_get h o.0 ≡ Some object → slice_get object.cell.parts q ≡ Some u → 0 < in_forests q left → (tasks : List Task) (fs : List Forest) → in_forests q fs ≡ 0 → Ends (shapes_of types) fs tasks
            → Reads types (static (on_object (treated finalized_part q) h (Names o))) true (listing (on_object (treated finalized_part q) h (Names o))) (put_part s.alive o.0 q false) x.activations
            (frame.Confines ∷ treating (Names o) (ends (Assigning n)) tasks (copying o base t first count n last lasts k)) ms (storage.assigns (suc n) o.0 F fs c)
        waits_by q object u there part_there some tasks fs none e =
            treats_behind (assigns (suc n) o.0 F fs)
            (assigned_to o p us base t first count n last lasts tasks fs q
            (ap (λ (S : Static). S.holds o.0 q) (static_treated types h ms x.next o q object u there part_there finalized_part) ∙ has_part types h ms x.next o q object u there part_there)
            (in_target q object u there part_there some) none is_newest record_is e refl)
            acting (dying q object u there part_there some) refl

        pub assigning_follows :
            (task : Task) (rest : List Task) → Ends (shapes_of types) left (task ∷ rest)
            → AllFollow types s (treats_next named types bodies (Names o) (ends (Assigning n)) (task ∷ rest) (task_next (task ∷ rest)) (with_all x h ms Running (copying o base t first count n last lasts k)))
        assigning_follows task rest e =
            finishing_follows types bodies x s h ms o (Assigning n) (copying o base t first count n last lasts k) (at_assignment (suc n) F c) (λ c fs q. refl) refl left once is run f settles_by waits_by task rest e

    -- They are stored.
    module _ (first count : ℕ) (e : Ends (shapes_of types) left []) where
      abbrev adjusts_then : Control
      adjusts_then = frame.Treats (Names o) (begins (Adjustment n) []) (last ∷ lasts) ∷ k

      abbrev at_store : State
      at_store = with_all x h ms Running adjusts_then

      stored_follows : (found : Option (List Value)) → AllFollow types s (record_stored_next named (Names o) first (newest_ones named count at_store) found (without_newest named count at_store))
      stored_follows None = λ b. b
      stored_follows (Some values) =
          let g = stored_from named h (Names o) first (newest_ones named count at_store) in
          let u = alike_stored h (Names o) first (newest_ones named count at_store) in
          let r1 = does.at (storage.assigns (suc n) o.0 F [] c) s in
          let r2 = does.at (storage.adjusts o.0 F (all_in F ∷ []) [] c) s in
          let more = starts_adjusting (shapes_of types) (are_table types) o.0 F c (last ∷ lasts) r2 record_is refl refl run in
          let r3 = does.at (storage.adjusts o.0 F more.jobs [] c) s in
          record {
            reached = r3;
            to = r3;
            goes =
                goes_silent s r3
                (then_silent s r1 r3 (done_ends (shapes_of types) (are_table types) (at_assignment (suc n) F c) o.0 (λ c fs q. refl) s left is run e)
                (then_silent r1 r2 r3 (adjusts_next (shapes_of types) (are_table types) o.0 F c (suc n) r1 refl run) more.steps));
            later = stands_still r3 r3 refl;
            arrived =
                record {
                  control = r3.control;
                  moded = storage.running;
                  is_control = refl;
                  is_moded = run;
                  stands = adjusting o n [] last lasts F more.jobs more.left acting (reads_callers (older_operands _ x.activations) (reads_alike h g u reads));
                  facts = facts_at r3.control (facts_alike h g u f);
                };
          }

      stores_follow : (found : Found (Cell Value)) → NameFound found → AllFollow types s (store_record_next named (Names o) first count found at_store)
      stores_follow found (is_gone g) = rw g (λ b. b)
      stores_follow found (is_there cell g) = rw g (stored_follows (record_in cell.values first count))

      pub record_stores_follow : AllFollow types s (store_record_next named (Names o) first count (look h (Names o)) at_store)
      record_stores_follow = stores_follow (look h (Names o)) (object_found (slice_get h o.0))
