-- What is left behind an operation of an object that is freed (7.6.1, 13.11.2) or allocated (7.6, 4.8), where bodies that shun some access types wait for it.

use Rattle.ada_meaning.specs.declared.event.Cause.TheVariants.{Assigning}
use Rattle.std.proofs.Common.{◌≡◌, ◌≤◌, ◌⊎◌, ℕ, suc, Bool, true, false, not, List, [], ◌∷◌, ◌++◌, length, Option, Some, arith, refl, sym, ap, ◌∙◌, subst, inl, inr, ◌&&◌}
use Rattle.ada_parts.specs.Task.{Task}
use Rattle.ada_program.specs.ProgramForm.{TypeForm, BodyForm, ProgramForm}
use Rattle.ada_meaning.specs.declared.event.Cause.{Cause}
use Rattle.ada_meaning.specs.declared.state.Id.{Id}
use Rattle.ada_meaning.specs.declared.state.Mode.{Mode}
use Rattle.ada_meaning.specs.declared.state.Mode.TheVariants.{Running, Raising, Exiting, Returning}
use Rattle.ada_meaning.specs.declared.state.Value.{Value}
use Rattle.ada_meaning.specs.declared.state.Value.TheVariants.{Null, Names, Scalar, Part}
use Rattle.ada_meaning.specs.Frame.{Frame, Treatment, ends}
use Rattle.ada_meaning.specs.Frame as frame
use Rattle.ada_meaning.specs.State.{Activation, Master}
use Rattle.ada_meaning.specs.Step.{older, operands_of, operating, places_of, procedure_of, treating, first_or}
use Rattle.ada_meaning.specs.Named.{Object, State, named, object_at}
use Rattle.ada_typed.proofs.Control as typed
use Rattle.ada_untouched.specs.Untouched.{IsInSight}
use Rattle.ada_reaching.specs.Apart.{Apart}
use Rattle.ada_reaching.specs.Law.{GhostsStay}
use Rattle.ada_reaching.specs.Reaching.{AreElsewhere, AreLow, IsGhost, IsInner, IsLast, IsReaching, LeftShuns, OperandSeeks, Seeks, is_leaving, begins_anew, comes_to_copy, WaitsToCopy}
use Rattle.ada_reaching.proofs.Going.{may_jump}

-- Behind an operation begins anew what is left, or a record is copied there that the newest operand names, which is no ghost.
abbrev pub WaitsSo : (ghosts : Id → Bool) → (f : Frame Value) → List (Frame Value) → List Value → Type 0
WaitsSo ghosts f k vs = (begins_anew (f ∷ k) ≡ true) ⊎ (IsInSight ghosts (first_or Null vs))

module _ (types : List TypeForm) (shuns : ℕ → Bool) (apart : Apart) (ghosts : Id → Bool) where
  -- From an object that is no ghost nothing more is sought behind an operation.
  operation_seeks :
      (access : ℕ) (may : Bool) (f : Frame Value) (k : List (Frame Value)) → typed.is_operation f ≡ true → (begins_anew (f ∷ k) ≡ true) ⊎ (may ≡ true)
      → Seeks types shuns apart may access (f ∷ k)
  operation_seeks access may (frame.Awaits v by done of part tasks) k is so = tt
  operation_seeks access may frame.Confines k is (inl anew) = λ copies. absurd (not_both (comes_to_copy k) copies anew)
    where
      not_both : (copies : Bool) → copies ≡ true → (not copies && true) ≡ true → ⊥
      not_both true copies' anew' = cc anew'
      not_both false copies' anew' = cc copies'
  operation_seeks access may frame.Confines k is (inr is_may) = λ copies. is_may
  operation_seeks access may f k is so = absurd (cc)

  -- By the newest operand.
  named_so : (o : Id) (f : Frame Value) (k : List (Frame Value)) (vs : List Value) → WaitsSo ghosts f k (Names o ∷ vs) → (begins_anew (f ∷ k) ≡ true) ⊎ (not (ghosts o) ≡ true)
  named_so o f k vs (inl anew) = inl anew
  named_so o f k vs (inr sees) = inr (ap not sees)

  -- Nothing more is sought there.
  waiting_seeks :
      (heap : List Object) (m : Mode) (f : Frame Value) (k : List (Frame Value)) (vs : List Value) → typed.is_operation f ≡ true → WaitsSo ghosts f k vs
      → OperandSeeks types shuns apart ghosts heap m (f ∷ k) vs
  waiting_seeks heap Running f k [] is so = tt
  waiting_seeks heap Running f k (Null ∷ vs) is so = tt
  waiting_seeks heap Running f k (Names o ∷ vs) is so = λ x at. operation_seeks x.cell.access (not (ghosts o)) f k is (named_so o f k vs so)
  waiting_seeks heap Running f k (Scalar v ∷ vs) is so = tt
  waiting_seeks heap Running f k (Part o place ∷ vs) is so = tt
  waiting_seeks heap (Raising e) f k vs is so = tt
  waiting_seeks heap Exiting f k vs is so = tt
  waiting_seeks heap Returning f k vs is so = tt

  -- So it is in another heap, in which each ghost is as it was.
  module _ (before heap : List Object) (there : (o : Id) → ghosts o ≡ true → (x : Object) × (object_at before o ≡ Some x)) where
    sought_still : (may : Bool) (u access : ℕ) (f : Frame Value) (k : List (Frame Value)) → typed.is_operation f ≡ true → Seeks types shuns apart may u (f ∷ k)
        → Seeks types shuns apart may access (f ∷ k)
    sought_still may u access (frame.Awaits v by done of part tasks) k is seeks = tt
    sought_still may u access frame.Confines k is seeks = seeks
    sought_still may u access f k is seeks = absurd (cc)

    -- From what is no ghost nothing more is sought.
    other_sought : (o : Id) (b : Bool) → ghosts o ≡ b → (f : Frame Value) (k : List (Frame Value)) (access : ℕ) → typed.is_operation f ≡ true
        → ((x : Object) → object_at before o ≡ Some x → Seeks types shuns apart (not (ghosts o)) x.cell.access (f ∷ k))
        → Seeks types shuns apart (not (ghosts o)) access (f ∷ k)
    other_sought o true ghost f k access is seeks = let x = there o ghost in sought_still (not (ghosts o)) x.0.cell.access access f k is (seeks x.0 x.1)
    other_sought o false plain f k access is seeks = operation_seeks access (not (ghosts o)) f k is (inr (ap not plain))

    running_still :
        (f : Frame Value) (k : List (Frame Value)) (vs : List Value) → typed.is_operation f ≡ true → OperandSeeks types shuns apart ghosts before Running (f ∷ k) vs
        → OperandSeeks types shuns apart ghosts heap Running (f ∷ k) vs
    running_still f k [] is seeks = tt
    running_still f k (Null ∷ vs) is seeks = tt
    running_still f k (Names o ∷ vs) is seeks = λ x at. other_sought o (ghosts o) refl f k x.cell.access is seeks
    running_still f k (Scalar v ∷ vs) is seeks = tt
    running_still f k (Part o place ∷ vs) is seeks = tt

    waiting_still :
        (m after : Mode) (f : Frame Value) (k : List (Frame Value)) (vs : List Value) → typed.is_operation f ≡ true → (after ≡ Running → m ≡ Running)
        → OperandSeeks types shuns apart ghosts before m (f ∷ k) vs → OperandSeeks types shuns apart ghosts heap after (f ∷ k) vs
    waiting_still m Running f k vs is goes seeks =
        running_still f k vs is (subst (λ (mode : Mode). OperandSeeks types shuns apart ghosts before mode (f ∷ k) vs) (goes refl) seeks)
    waiting_still m (Raising e) f k vs is goes seeks = tt
    waiting_still m Exiting f k vs is goes seeks = tt
    waiting_still m Returning f k vs is goes seeks = tt

-- Where a ghost is, an object is there.
ghost_there : (types : List TypeForm) (shuns : ℕ → Bool) (b : Bool) (found : Option Object) → IsGhost types shuns b found → (x : Object) × (found ≡ Some x)
ghost_there types shuns false found ghost = (ghost.object, ghost.there)
ghost_there types shuns true found ghost = (ghost.object, ghost.there)

-- What is treated first makes what is left no shorter.
treated_longer :
    (v : Value) (treatment : Treatment) (tasks : List Task) (k : List (Frame Value)) → length k ≤ length (treating v treatment tasks k)
treated_longer v treatment [] k = omega arith
treated_longer v treatment (task ∷ tasks) k = omega arith

-- Behind an operation no master is left.
operation_stands : (f : Frame Value) (k : List (Frame Value)) → typed.is_operation f ≡ true → is_leaving (f ∷ k) ≡ false
operation_stands (frame.Awaits v by done of part tasks) k is = refl
operation_stands frame.Confines k is = refl
operation_stands f k is = absurd (cc)

module _ (p : ProgramForm) (shuns : ℕ → Bool) (apart : Apart) (ghosts unnamed : Id → Bool) (behind : List (Frame Value)) (lower : List Master) where
  -- The bodies that wait for an operation go on behind it, unless that is behind all of them.
  inner_bodies :
      (f : Frame Value) (k : List (Frame Value)) (ms : List Master) (suspended : List (Activation Value)) (left : Type 0) → (f ∷ k ≡ behind → ⊥)
      → (IsLast behind (frame.Returns [] []) (f ∷ k) × (ms ≡ [])) ⊎ IsInner ghosts unnamed (frame.Returns [] []) (f ∷ k) suspended left
      → IsInner ghosts unnamed (frame.Returns [] []) (f ∷ k) suspended left
  inner_bodies f k ms suspended left inside (inl (last, none)) = absurd (inside (ap older last))
  inner_bodies f k ms suspended left inside (inr inner) = inner

  waits_so : (f : Frame Value) (k : List (Frame Value)) (suspended : List (Activation Value))
      → (begins_anew (f ∷ k) ≡ true) ⊎ WaitsToCopy ghosts (frame.Returns [] []) (f ∷ k) suspended → WaitsSo ghosts f k (operands_of suspended)
  waits_so f k suspended (inl anew) = inl anew
  waits_so f k suspended (inr waits) = inr waits.sees

  -- So it is where the body of the operation has begun, in a master of its own.
  begun_bodies :
      (procedure : ℕ) (b : BodyForm) (f : Frame Value) (k : List (Frame Value)) (s : State) (m : Master) (upper : List Master) → typed.is_operation f ≡ true
      → (f ∷ k ≡ behind → ⊥) → ((o : Id) → ghosts o ≡ true → IsGhost p.types shuns (unnamed o) (object_at s.heap o))
      → ((o : Id) → unnamed o ≡ true → ghosts o ≡ true) → AreLow ghosts lower s.heap → m ∷ s.masters ≡ upper ++ lower
      → LeftShuns p shuns apart ghosts unnamed behind lower (Some procedure)
      (frame.Elaborates b.declarations b.statements b.handlers ∷ frame.Returns [] [] ∷ f ∷ k) upper s.activations
      → IsReaching p shuns apart ghosts unnamed behind lower (record s { control = f ∷ k })
  begun_bodies procedure b f k s m [] is inside there are low owns left = absurd (left.2)
  begun_bodies procedure b f k s m (n ∷ ms) is inside there are low owns left =
      let inner =
      inner_bodies f k ms s.activations
      (LeftShuns p shuns apart ghosts unnamed behind lower (procedure_of s.activations) (f ∷ k) ms (older s.activations)) inside left.2.1 in
      record {
        ghosts_there = there;
        are_ghosts = are;
        low = low;
        places = inner.places;
        operands = inner.operands;
        upper = ms;
        masters = ap (λ (all : List Master). older all) owns;
        control = inner.others;
        jumps = may_jump s.mode (f ∷ k) (operation_stands f k is);
        seeks = waiting_seeks p.types shuns apart ghosts s.heap s.mode f k (operands_of s.activations) is (waits_so f k s.activations inner.anew);
      }

  -- The body of an operation has begun inside such bodies: they go on behind it, unless that is behind all of them.
  pub waiting_reaches :
      (procedure : ℕ) (b : BodyForm) (reference : Value) (f : Frame Value) (k : List (Frame Value)) (s : State) → typed.is_operation f ≡ true
      → (f ∷ k ≡ behind → ⊥) → IsReaching p shuns apart ghosts unnamed behind lower (operating named procedure b reference (f ∷ k) s)
      → IsReaching p shuns apart ghosts unnamed behind lower (record s { control = f ∷ k })
  waiting_reaches procedure b reference f k s is inside reaching =
      begun_bodies procedure b f k s (record { number = s.next; items = [] }) reaching.upper is inside reaching.ghosts_there reaching.are_ghosts reaching.low
      reaching.masters reaching.control

  -- So it is behind the body of a Finalize.
  pub behind_reaches :
      (procedure : ℕ) (b : BodyForm) (reference : Value) (k : List (Frame Value)) (s : State) → (frame.Confines ∷ k ≡ behind → ⊥)
      → IsReaching p shuns apart ghosts unnamed behind lower (operating named procedure b reference (frame.Confines ∷ k) s)
      → IsReaching p shuns apart ghosts unnamed behind lower (record s { control = frame.Confines ∷ k })
  behind_reaches procedure b reference k s inside reaching = waiting_reaches procedure b reference frame.Confines k s refl inside reaching

  -- They go on so, whatever happens meanwhile to other objects than the ghosts.
  pub waiting_kept :
      (f : Frame Value) (k : List (Frame Value)) (s after : State) → typed.is_operation f ≡ true → s.control ≡ f ∷ k → after.control ≡ s.control
      → after.activations ≡ s.activations → after.masters ≡ s.masters → (after.mode ≡ Running → s.mode ≡ Running) → GhostsStay ghosts s.heap after.heap
      → IsReaching p shuns apart ghosts unnamed behind lower s → IsReaching p shuns apart ghosts unnamed behind lower after
  waiting_kept f k s after is first same active owned mode stay reaching = record {
    ghosts_there = λ o ghost. subst (λ (found : Option Object). IsGhost p.types shuns (unnamed o) found) (sym (stay o ghost)) (reaching.ghosts_there o ghost);
    are_ghosts = reaching.are_ghosts;
    low = λ o x ghost at. reaching.low o x ghost (sym (stay o ghost) ∙ at);
    places = subst (λ (acts : List (Activation Value)). AreElsewhere ghosts unnamed (places_of acts)) (sym active) reaching.places;
    operands = subst (λ (acts : List (Activation Value)). AreElsewhere ghosts unnamed (operands_of acts)) (sym active) reaching.operands;
    upper = reaching.upper;
    masters = owned ∙ reaching.masters;
    control =
        subst
        (λ (left : List (Frame Value)).
        LeftShuns p shuns apart ghosts unnamed behind lower (procedure_of after.activations) left reaching.upper (older after.activations))
        (sym same)
        (subst
        (λ (acts : List (Activation Value)). LeftShuns p shuns apart ghosts unnamed behind lower (procedure_of acts) s.control reaching.upper (older acts))
        (sym active) reaching.control);
    jumps = may_jump after.mode after.control (ap is_leaving (same ∙ first) ∙ operation_stands f k is);
    seeks =
        subst (λ (left : List (Frame Value)). OperandSeeks p.types shuns apart ghosts after.heap after.mode left (operands_of after.activations))
        (sym (same ∙ first))
        (subst (λ (acts : List (Activation Value)). OperandSeeks p.types shuns apart ghosts after.heap after.mode (f ∷ k) (operands_of acts)) (sym active)
        (waiting_still p.types shuns apart ghosts s.heap after.heap
        (λ o ghost. ghost_there p.types shuns (unnamed o) (object_at s.heap o) (reaching.ghosts_there o ghost)) s.mode after.mode f k (operands_of s.activations) is mode
        (subst (λ (left : List (Frame Value)). OperandSeeks p.types shuns apart ghosts s.heap s.mode left (operands_of s.activations)) first reaching.seeks)));
  }

  -- So it is behind the body of a Finalize.
  pub reaching_kept :
      (k : List (Frame Value)) (s after : State) → s.control ≡ frame.Confines ∷ k → after.control ≡ s.control → after.activations ≡ s.activations
      → after.masters ≡ s.masters → (after.mode ≡ Running → s.mode ≡ Running) → GhostsStay ghosts s.heap after.heap → IsReaching p shuns apart ghosts unnamed behind lower s
      → IsReaching p shuns apart ghosts unnamed behind lower after
  reaching_kept k s after first same active owned mode stay reaching = waiting_kept frame.Confines k s after refl first same active owned mode stay reaching

  -- An object of which a part is finalized, and which ends behind that, is no ghost.
  pub ends_other :
      (v : Value) (cause : Cause) (tasks : List Task) (k : List (Frame Value)) (procedure : Option ℕ) (ms : List Master) (suspended : List (Activation Value))
      → LeftShuns p shuns apart ghosts unnamed behind lower procedure (frame.Confines ∷ treating v (ends cause) tasks (frame.Ends v ∷ k)) ms suspended
      → IsInSight ghosts v
  ends_other v cause [] k procedure ms suspended left = left.2.0
  ends_other v cause (task ∷ tasks) k procedure ms suspended left = left.2.0.0

  -- Nor is one of which a record is finalized that is assigned to (5.2).
  pub assigned_other :
      (v : Value) (number first t to width : ℕ) (tasks : List Task) (k : List (Frame Value)) (procedure : Option ℕ) (ms : List Master)
      (suspended : List (Activation Value))
      → LeftShuns p shuns apart ghosts unnamed behind lower procedure
      (frame.Confines ∷ treating v (ends (Assigning number)) tasks (frame.Copies first t ∷ frame.StoresRecord v to width ∷ k)) ms suspended
      → IsInSight ghosts v
  assigned_other v number first t to width [] k procedure ms suspended left = left.2.2.0
  assigned_other v number first t to width (task ∷ tasks) k procedure ms suspended left = left.2.0.0

  -- What is left of such bodies is longer than what is behind all of them.
  pub left_longer :
      (procedure : Option ℕ) (k : List (Frame Value)) (ms : List Master) (suspended : List (Activation Value))
      → LeftShuns p shuns apart ghosts unnamed behind lower procedure k ms suspended → suc (length behind) ≤ length k
  left_longer procedure [] ms suspended left = absurd left
  left_longer procedure (frame.Returns actuals references ∷ k) ms suspended (inl (last, none)) = let same = ap length last in omega (arith, same)
  left_longer procedure (frame.Returns actuals references ∷ k) ms suspended (inr inner) =
      let longer = left_longer (procedure_of suspended) k ms (older suspended) inner.others in
      omega (arith, longer)
  left_longer procedure (frame.Elaborates ds fs hs ∷ k) (m ∷ ms) suspended left =
      let longer = left_longer procedure k ms suspended left.2.1 in omega (arith, longer)
  left_longer procedure (frame.Elaborates ds fs hs ∷ k) [] suspended left = absurd (left.2)
  left_longer procedure (frame.Closes ∷ k) (m ∷ ms) suspended left = let longer = left_longer procedure k ms suspended left.2.1 in omega (arith, longer)
  left_longer procedure (frame.Closes ∷ k) [] suspended left = absurd (left.2)
  left_longer procedure (frame.Leaves mode ∷ k) (m ∷ ms) suspended left = let longer = left_longer procedure k ms suspended left.2.1 in omega (arith, longer)
  left_longer procedure (frame.Leaves mode ∷ k) [] suspended left = absurd (left.2)
  left_longer procedure (frame.Declares x ∷ k) (m ∷ ms) suspended left =
      let longer = left_longer procedure k (m ∷ ms) suspended left.2 in omega (arith, longer)
  left_longer procedure (frame.Declares x ∷ k) [] suspended left = absurd (left.2)
  left_longer procedure (frame.DeclaresRecord x t ∷ k) (m ∷ ms) suspended left =
      let longer = left_longer procedure k (m ∷ ms) suspended left.2 in omega (arith, longer)
  left_longer procedure (frame.DeclaresRecord x t ∷ k) [] suspended left = absurd (left.2)
  left_longer procedure (f ∷ k) ms suspended left = let longer = left_longer procedure k ms suspended left.2 in omega (arith, longer)

  -- So an operation for which they wait is not behind all of them.
  pub waiting_inside :
      (f : Frame Value) (procedure : Option ℕ) (k : List (Frame Value)) (ms : List Master) (suspended : List (Activation Value))
      → LeftShuns p shuns apart ghosts unnamed behind lower procedure k ms suspended → f ∷ k ≡ behind → ⊥
  waiting_inside f procedure k ms suspended left same =
      let longer = left_longer procedure k ms suspended left in
      let lengths = ap length same in
      omega (arith, longer, lengths)

  -- Nor is a Finalize of an object that they treat.
  pub treating_inside :
      (v : Value) (treatment : Treatment) (tasks : List Task) (procedure : Option ℕ) (k : List (Frame Value)) (ms : List Master)
      (suspended : List (Activation Value))
      → LeftShuns p shuns apart ghosts unnamed behind lower procedure k ms suspended → frame.Confines ∷ treating v treatment tasks k ≡ behind → ⊥
  treating_inside v treatment tasks procedure k ms suspended left same =
      let longer = left_longer procedure k ms suspended left in
      let more = treated_longer v treatment tasks k in
      let lengths = ap length same in
      omega (arith, longer, more, lengths)
