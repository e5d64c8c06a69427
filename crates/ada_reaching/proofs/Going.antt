-- How states change of bodies that shun some access types: they go on so, and each ghost stays as it is.

use Rattle.std.proofs.Common.{◌≡◌, ℕ, ◌+◌, zero, suc, Bool, true, false, not, List, [], ◌∷◌, ◌++◌, Option, Some, None, refl, sym, ap, ◌∙◌, inl, inr, subst, ◌||◌, ◌⊎◌}
use Rattle.std.specs.List.{list_all, slice_get, slice_set}
use Rattle.std.proofs.lemmas.Bool.{and_from, and_parts, or_cases}
use Rattle.ada_program.specs.ProgramForm.{VariableForm, ProgramForm, seen_in}
use Rattle.ada_program.specs.WellFormed.{type_fits}
use Rattle.ada_meaning.specs.declared.event.Cause.TheVariants.{Assigning, Leaving, Freeing, Undoing}
use Rattle.ada_meaning.specs.declared.state.Id.{Id}
use Rattle.ada_meaning.specs.declared.state.Mode.{Mode}
use Rattle.ada_meaning.specs.declared.state.Mode.TheVariants.{Running, Raising, Exiting, Returning}
use Rattle.ada_meaning.specs.declared.state.Value.{Value}
use Rattle.ada_meaning.specs.declared.state.Value.TheVariants.{Null, Names, Scalar, Part}
use Rattle.ada_meaning.specs.Frame.{Frame, ends}
use Rattle.ada_meaning.specs.Frame as frame
use Rattle.ada_meaning.specs.Heap.{Cell}
use Rattle.ada_meaning.specs.State.{Activation, Master}
use Rattle.ada_meaning.specs.Step.{procedure_of, places_of, operands_of, with_places, with_operands, operands, places, older, computed, popped, jumping, put, stored_from, first_or}
use Rattle.ada_meaning.specs.Named.{Object, State, Next, named, object_at, changed, on_object, filled, store, create, new_object}
use Rattle.ada_untouched.specs.Untouched.{IsInSight}
use Rattle.ada_untouched.proofs.Heaps.{set_there, one_or_other}
use Rattle.ada_reaching.specs.Reaching.{IsGhost, IsOfShunned, IsDeclared, IsElsewhere, AreElsewhere, AreLow, LeftShuns, MayJump, Seeks, OperandSeeks, begins_anew, is_leaving, seeks_nothing, comes_to_copy}
use Rattle.ada_reaching.specs.Apart.{Apart}
use Rattle.ada_reaching.specs.Law.{GhostsStay, GoesOn, AllGoOn}
use Rattle.ada_reaching.proofs.Elsewhere.{elsewhere_older, elsewhere_set}

-- What runs: bodies of a program that shun some access types, while ghosts are there; the masters that were entered before, where each ghost has its home; the
-- procedure of which one runs, the masters of the bodies' own, and what waits for it.
pub record World : Type 0 where
  pub p : ProgramForm
  pub shuns : ℕ → Bool
  pub apart : Apart
  pub ghosts : Id → Bool
  pub unnamed : Id → Bool
  pub behind : List (Frame Value)
  pub lower : List Master
  pub before : List Object
  pub there : (o : Id) → ghosts o ≡ true → IsGhost p.types shuns (unnamed o) (object_at before o)
  pub are : (o : Id) → unnamed o ≡ true → ghosts o ≡ true
  pub low : AreLow ghosts lower before
  pub types_fit : list_all (type_fits p.types) p.types ≡ true
  pub procedure : Option ℕ
  pub upper : List Master
  pub suspended : List (Activation Value)

-- The variables of the body that runs.
abbrev pub variables_in : World → List VariableForm
variables_in w = (seen_in w.procedure w.p).variables

-- An object changes that is no ghost.
by_name :
    (ghosts : Id → Bool) (change : Object → Object) (objects : List Object) (o : Id) (found : Option Object) → ghosts o ≡ false
    → GhostsStay ghosts objects (changed change found objects o)
by_name ghosts change objects o None none p is = refl
by_name ghosts change objects o (Some x) none p is = elim (one_or_other p o) [
  | inl e ↦ let same : ghosts p ≡ ghosts o = ap ghosts e in absurd (cc)
  | inr ne ↦ set_there objects o.0 p.0 (change x) ne
]

-- So it is with the object that a value names.
pub object_stays :
    (ghosts : Id → Bool) (change : Object → Object) (objects : List Object) (v : Value) → IsInSight ghosts v
    → GhostsStay ghosts objects (on_object change objects v)
object_stays ghosts change objects Null sight p is = refl
object_stays ghosts change objects (Names o) sight p is = by_name ghosts change objects o (object_at objects o) sight p is
object_stays ghosts change objects (Scalar v) sight p is = refl
object_stays ghosts change objects (Part o place) sight p is = refl

-- One object more leaves those that are there.
more_get : (xs : List Object) (y : Object) (i : ℕ) (x : Object) → slice_get xs i ≡ Some x → slice_get (xs ++ y ∷ []) i ≡ Some x
more_get [] y i x is = absurd (cc)
more_get (u ∷ xs) y zero x is = is
more_get (u ∷ xs) y (suc i) x is = more_get xs y i x is

-- What is not so.
is_not : (b : Bool) → not b ≡ true → b ≡ false
is_not true isnt = absurd (cc)
is_not false isnt = refl

-- Where what is left to do begins anew, it begins with no frame that looks for an object.
pub anew_quiet : (k : List (Frame Value)) → begins_anew k ≡ true → seeks_nothing k ≡ true
anew_quiet k anew = (and_parts (seeks_nothing k) (not (is_leaving k)) anew).0

-- Nor is a master left first.
pub anew_stands : (k : List (Frame Value)) → begins_anew k ≡ true → is_leaving k ≡ false
anew_stands k anew = is_not (is_leaving k) (and_parts (seeks_nothing k) (not (is_leaving k)) anew).1

-- It begins anew where both are so.
pub anew_from : (k : List (Frame Value)) → seeks_nothing k ≡ true → is_leaving k ≡ false → begins_anew k ≡ true
anew_from k quiet stands = and_from (seeks_nothing k) (not (is_leaving k)) quiet (ap not stands)

-- Where no master is left first, a jump may come.
pub may_jump : (m : Mode) (k : List (Frame Value)) → is_leaving k ≡ false → MayJump m k
may_jump Running k stands = tt
may_jump (Raising e) k stands = stands
may_jump Exiting k stands = stands
may_jump Returning k stands = stands

-- Where none is on its way, nothing is asked.
pub none_jumps : (m : Mode) (k : List (Frame Value)) → m ≡ Running → MayJump m k
none_jumps Running k runs = tt
none_jumps (Raising e) k runs = absurd (cc)
none_jumps Exiting k runs = absurd (cc)
none_jumps Returning k runs = absurd (cc)

module _ (w : World) where
  -- Activations of which the first is that of the body that runs, masters of which the first are the bodies' own, and a heap in which each ghost is as it was:
  -- what the activation's variables and operands hold refers to no ghost.
  pub record IsRun (acts : List (Activation Value)) (masters : List Master) (heap : List Object) : Type 0 where
    pub runs : procedure_of acts ≡ w.procedure
    pub waits : older acts ≡ w.suspended
    pub owns : masters ≡ w.upper ++ w.lower
    pub places : AreElsewhere w.ghosts w.unnamed (places_of acts)
    pub operands : AreElsewhere w.ghosts w.unnamed (operands_of acts)
    pub same : GhostsStay w.ghosts w.before heap

  -- So it is in a state.
  abbrev pub Runs : State → Type 0
  Runs s = IsRun s.activations s.masters s.heap

  -- What is left to do shuns the types, in these masters of the bodies' own.
  abbrev pub LeftIn : List Master → List (Frame Value) → Type 0
  LeftIn ms k = LeftShuns w.p w.shuns w.apart w.ghosts w.unnamed w.behind w.lower w.procedure k ms w.suspended

  -- So it is in those that are open.
  abbrev pub Left : List (Frame Value) → Type 0
  Left k = LeftIn w.upper k

  -- The bodies go on in a state.
  abbrev pub On : State → Type 0
  On s = GoesOn w.p w.shuns w.apart w.ghosts w.unnamed w.behind w.lower w.before s

  -- They go on, whatever comes next of this state, where nothing is sought behind, and no master is left there.
  abbrev pub Goes : State → Next → Type 0
  Goes s n = Runs s → Left s.control → begins_anew s.control ≡ true → AllGoOn On n

  -- They go on, whatever comes next of a state in which no jump is on its way, where nothing is sought behind.
  abbrev pub GoesRunning : State → Next → Type 0
  GoesRunning s n = s.mode ≡ Running → Runs s → Left s.control → seeks_nothing s.control ≡ true → AllGoOn On n

  -- The ghosts have their homes where they had them.
  pub low_there : (heap : List Object) → GhostsStay w.ghosts w.before heap → AreLow w.ghosts w.lower heap
  low_there heap same o x is at = w.low o x is (sym (same o is) ∙ at)

  -- The ghosts are there still.
  pub ghosts_there :
      (heap : List Object) → GhostsStay w.ghosts w.before heap → (o : Id) → w.ghosts o ≡ true → IsGhost w.p.types w.shuns (w.unnamed o) (object_at heap o)
  ghosts_there heap same o is = subst (λ (found : Option Object). IsGhost w.p.types w.shuns (w.unnamed o) found) (sym (same o is)) (w.there o is)

  -- One is of a type that is shunned that is not unnamed.
  pub shunned_there :
      (heap : List Object) → GhostsStay w.ghosts w.before heap → (o : Id) → w.ghosts o ≡ true → w.unnamed o ≡ false
      → IsOfShunned w.p.types w.shuns (object_at heap o)
  shunned_there heap same o is named_so =
      subst (λ (b : Bool). IsGhost w.p.types w.shuns b (object_at heap o)) named_so (ghosts_there heap same o is)

  -- An unnamed one is declared.
  pub declared_there :
      (heap : List Object) → GhostsStay w.ghosts w.before heap → (o : Id) → w.unnamed o ≡ true → IsDeclared w.p.types (object_at heap o)
  declared_there heap same o is =
      subst (λ (b : Bool). IsGhost w.p.types w.shuns b (object_at heap o)) is (ghosts_there heap same o (w.are o is))

  -- Each is there.
  pub object_there :
      (heap : List Object) → GhostsStay w.ghosts w.before heap → (o : Id) → w.ghosts o ≡ true → (x : Object) × (object_at heap o ≡ Some x)
  object_there heap same o is = there_so (w.unnamed o) (object_at heap o) (ghosts_there heap same o is)
    where
      there_so : (b : Bool) (found : Option Object) → IsGhost w.p.types w.shuns b found → (x : Object) × (found ≡ Some x)
      there_so false found ghost = (ghost.object, ghost.there)
      there_so true found ghost = (ghost.object, ghost.there)

  -- Where what is left to do begins with no frame that looks for an object, nothing is sought.
  pub anew_seeks : (may : Bool) (k : List (Frame Value)) (u : ℕ) → seeks_nothing k ≡ true → Seeks w.p.types w.shuns w.apart may u k
  anew_seeks may [] u anew = tt
  anew_seeks may (frame.Follows cs ∷ k) u anew = absurd (cc)
  anew_seeks may (frame.RefersIn place t ∷ k) u anew = absurd (cc)
  anew_seeks may (frame.OpensIn c ∷ k) u anew = absurd (cc)
  anew_seeks may (frame.Targets c right ∷ k) u anew = absurd (cc)
  anew_seeks may (frame.TargetsRecord c t items ∷ k) u anew = absurd (cc)
  anew_seeks may (frame.Copies c t ∷ k) u anew = absurd (cc)
  anew_seeks may (frame.Receives c ∷ k) u anew = absurd (cc)
  anew_seeks may (frame.FreesIn access c ∷ k) u anew = absurd (cc)
  anew_seeks may (frame.Treats v (ends (Assigning number)) tasks ∷ k) u anew = absurd (cc)
  anew_seeks may (frame.Confines ∷ k) u anew = λ copies. absurd (cc (anew, copies))
  anew_seeks may (f ∷ k) u anew = tt

  -- Where a record is copied next, or the one is finalized to which it is assigned, that alone is sought.
  pub copying_seeks : (may : Bool) (k : List (Frame Value)) (u : ℕ) → comes_to_copy k ≡ true → may ≡ true → Seeks w.p.types w.shuns w.apart may u k
  copying_seeks may [] u copies is_may = absurd (cc)
  copying_seeks may (frame.Copies c t ∷ k) u copies is_may = is_may
  copying_seeks may (frame.Treats v (ends (Assigning number)) tasks ∷ k) u copies is_may = is_may
  copying_seeks may (frame.Treats v (ends (Leaving master item)) tasks ∷ k) u copies is_may = absurd (cc)
  copying_seeks may (frame.Treats v (ends (Freeing number)) tasks ∷ k) u copies is_may = absurd (cc)
  copying_seeks may (frame.Treats v (ends (Undoing number)) tasks ∷ k) u copies is_may = absurd (cc)
  copying_seeks may (f ∷ k) u copies is_may = absurd (cc)

  -- So it is behind the end of a Finalize.
  pub confined_seeks :
      (may : Bool) (k : List (Frame Value)) (u : ℕ) → (seeks_nothing k || comes_to_copy k) ≡ true → Seeks w.p.types w.shuns w.apart may u (frame.Confines ∷ k)
      → Seeks w.p.types w.shuns w.apart may u k
  confined_seeks may k u front seeks = by (or_cases (seeks_nothing k) (comes_to_copy k) front)
    where
      by : (seeks_nothing k ≡ true) ⊎ (comes_to_copy k ≡ true) → Seeks w.p.types w.shuns w.apart may u k
      by (inl quiet) = anew_seeks may k u quiet
      by (inr copies) = copying_seeks may k u copies (seeks copies)

  -- From the object that a value names what is left to do seeks nothing that is shunned.
  abbrev pub ValueSeeks : List Object → Value → List (Frame Value) → Type 0
  ValueSeeks heap v k = (o : Id) (x : Object) → v ≡ Names o → object_at heap o ≡ Some x → Seeks w.p.types w.shuns w.apart (not (w.ghosts o)) x.cell.access k

  -- So it is from the newest operand.
  abbrev pub OperandsSeek : List Object → Mode → List (Frame Value) → List Value → Type 0
  OperandsSeek heap m k vs = OperandSeeks w.p.types w.shuns w.apart w.ghosts heap m k vs

  -- So it is where no jump is on its way.
  first_seeks : (heap : List Object) (k : List (Frame Value)) (v : Value) (vs : List Value) → ValueSeeks heap v k → OperandsSeek heap Running k (v ∷ vs)
  first_seeks heap k Null vs each = tt
  first_seeks heap k (Names o) vs each = λ x at. each o x refl at
  first_seeks heap k (Scalar n) vs each = tt
  first_seeks heap k (Part o place) vs each = tt

  -- Or where no ghost is sought.
  pub seen_seeks :
      (heap : List Object) (k : List (Frame Value)) (vs : List Value) → IsInSight w.ghosts (first_or Null vs)
      → ((may : Bool) (u : ℕ) → may ≡ true → Seeks w.p.types w.shuns w.apart may u k) → OperandsSeek heap Running k vs
  seen_seeks heap k [] sees each = tt
  seen_seeks heap k (Null ∷ vs) sees each = tt
  seen_seeks heap k (Names o ∷ vs) sees each = λ x at. each (not (w.ghosts o)) x.cell.access (ap not sees)
  seen_seeks heap k (Scalar n ∷ vs) sees each = tt
  seen_seeks heap k (Part o place ∷ vs) sees each = tt

  -- So it is in any mode.
  pub any_mode : (heap : List Object) (m : Mode) (k : List (Frame Value)) (vs : List Value) → OperandsSeek heap Running k vs → OperandsSeek heap m k vs
  any_mode heap Running k vs h = h
  any_mode heap (Raising e) k vs h = tt
  any_mode heap Exiting k vs h = tt
  any_mode heap Returning k vs h = tt

  -- The newest operand seeks nothing that is shunned.
  value_seeks : (heap : List Object) (m : Mode) (k : List (Frame Value)) (v : Value) (vs : List Value) → ValueSeeks heap v k → OperandsSeek heap m k (v ∷ vs)
  value_seeks heap m k v vs each = any_mode heap m k (v ∷ vs) (first_seeks heap k v vs each)

  -- Without operands nothing is sought.
  none_seek : (heap : List Object) (m : Mode) (k : List (Frame Value)) → OperandsSeek heap m k []
  none_seek heap m k = any_mode heap m k [] tt

  -- So it is by the newest operand.
  pub newest_seek : (heap : List Object) (m : Mode) (k : List (Frame Value)) (vs : List Value) → ValueSeeks heap (first_or Null vs) k → OperandsSeek heap m k vs
  newest_seek heap m k [] each = none_seek heap m k
  newest_seek heap m k (v ∷ vs) each = value_seeks heap m k v vs each

  -- Nor is anything sought where what is left to do begins with no frame that looks for an object.
  operand_seeks : (heap : List Object) (m : Mode) (k : List (Frame Value)) (vs : List Value) → seeks_nothing k ≡ true → OperandsSeek heap m k vs
  operand_seeks heap m k [] anew = none_seek heap m k
  operand_seeks heap m k (v ∷ vs) anew = value_seeks heap m k v vs (λ o x e at. anew_seeks (not (w.ghosts o)) k x.cell.access anew)

  -- So it is with the operands that become these.
  set_seeks :
      (heap : List Object) (m : Mode) (k : List (Frame Value)) (vs : List Value) (all : List (Activation Value)) → OperandsSeek heap m k vs
      → OperandsSeek heap m k (operands_of (with_operands vs all))
  set_seeks heap m k vs [] h = none_seek heap m k
  set_seeks heap m k vs (a ∷ suspended) h = h

  -- They run on with other operands that refer to no ghost.
  pub operands_run :
      (vs : List Value) (acts : List (Activation Value)) (masters : List Master) (heap : List Object) → AreElsewhere w.ghosts w.unnamed vs
      → IsRun acts masters heap → IsRun (with_operands vs acts) masters heap
  operands_run vs [] masters heap others r = r
  operands_run vs (a ∷ acts) masters heap others r =
      record { runs = r.runs; waits = r.waits; owns = r.owns; places = r.places; operands = others; same = r.same }

  -- So they do with other values of variables.
  pub places_run :
      (vs : List Value) (acts : List (Activation Value)) (masters : List Master) (heap : List Object) → AreElsewhere w.ghosts w.unnamed vs
      → IsRun acts masters heap → IsRun (with_places vs acts) masters heap
  places_run vs [] masters heap others r = r
  places_run vs (a ∷ acts) masters heap others r =
      record { runs = r.runs; waits = r.waits; owns = r.owns; places = others; operands = r.operands; same = r.same }

  -- They run on once an object has changed that is no ghost.
  pub changed_run :
      (change : Object → Object) (v : Value) (acts : List (Activation Value)) (masters : List Master) (heap : List Object) → IsInSight w.ghosts v
      → IsRun acts masters heap
      → IsRun acts masters (on_object change heap v)
  changed_run change v acts masters heap sight r = record {
    runs = r.runs;
    waits = r.waits;
    owns = r.owns;
    places = r.places;
    operands = r.operands;
    same = λ o is. object_stays w.ghosts change heap v sight o is ∙ r.same o is;
  }

  -- So they do once components of such an object, from one on, have got these values.
  pub stored_run :
      (vs : List Value) (v : Value) (c : ℕ) (acts : List (Activation Value)) (masters : List Master) (heap : List Object) → IsInSight w.ghosts v
      → IsRun acts masters heap
      → IsRun acts masters (stored_from named heap v c vs)
  stored_run [] v c acts masters heap sight r = r
  stored_run (u ∷ vs) v c acts masters heap sight r =
      stored_run vs v (c + 1) acts masters (store heap v c u) sight (changed_run (filled c u) v acts masters heap sight r)

  -- So they do once an object is created.
  pub created_run :
      (words : ℕ) (cell : Cell Value) (acts : List (Activation Value)) (masters : List Master) (heap : List Object) → IsRun acts masters heap
      → IsRun acts masters (create heap words cell)
  created_run words cell acts masters heap r = record {
    runs = r.runs;
    waits = r.waits;
    owns = r.owns;
    places = r.places;
    operands = r.operands;
    same = λ o is.
        let ghost = object_there heap r.same o is in
        more_get heap (new_object cell) o.0 ghost.0 ghost.1 ∙ sym ghost.1 ∙ r.same o is;
  }

  -- They go on in a state from whose newest operand nothing is sought that is shunned, and where a jump may come that is on its way.
  pub reaches : (s : State) → Runs s → Left s.control → MayJump s.mode s.control → OperandsSeek s.heap s.mode s.control (operands s) → On s
  reaches s r h jump seeks = record {
    same = r.same;
    reaching = record {
      ghosts_there = ghosts_there s.heap r.same;
      are_ghosts = w.are;
      low = low_there s.heap r.same;
      places = r.places;
      operands = r.operands;
      upper = w.upper;
      masters = r.owns;
      control =
          subst
          (λ (acts : List (Activation Value)).
          LeftShuns w.p w.shuns w.apart w.ghosts w.unnamed w.behind w.lower (procedure_of s.activations) s.control w.upper acts)
          (sym r.waits)
          (subst (λ (number : Option ℕ). LeftShuns w.p w.shuns w.apart w.ghosts w.unnamed w.behind w.lower number s.control w.upper w.suspended)
          (sym r.runs) h);
      jumps = jump;
      seeks = seeks;
    };
  }

  -- They go on in a state in which nothing is sought, and no master is left.
  pub stays : (s : State) → Runs s → Left s.control → begins_anew s.control ≡ true → On s
  stays s r h anew =
      reaches s r h (may_jump s.mode s.control (anew_stands s.control anew)) (operand_seeks s.heap s.mode s.control (operands s) (anew_quiet s.control anew))

  -- They go on in one in which nothing is sought, where no jump is on its way.
  pub runs_on : (s : State) → s.mode ≡ Running → Runs s → Left s.control → seeks_nothing s.control ≡ true → On s
  runs_on s running r h quiet =
      reaches s r h (none_jumps s.mode s.control running) (operand_seeks s.heap s.mode s.control (operands s) quiet)

  -- They go on with one operand more, from which something may be sought.
  pub sought :
      (v : Value) (s : State) → IsElsewhere w.ghosts w.unnamed v → Runs s → Left s.control → is_leaving s.control ≡ false → ValueSeeks s.heap v s.control
      → On (computed v s)
  sought v s other r h stands each =
      reaches (computed v s) (operands_run (v ∷ operands s) s.activations s.masters s.heap (other, r.operands) r) h (may_jump s.mode s.control stands)
      (set_seeks s.heap s.mode s.control (v ∷ operands s) s.activations (value_seeks s.heap s.mode s.control v (operands s) each))

  -- They go on with one operand more.
  pub gives : (v : Value) (s : State) → IsElsewhere w.ghosts w.unnamed v → Runs s → Left s.control → begins_anew s.control ≡ true → On (computed v s)
  gives v s other r h anew = stays (computed v s) (operands_run (v ∷ operands s) s.activations s.masters s.heap (other, r.operands) r) h anew

  -- They go on once a jump begins, which drops the operands, where no master is left.
  pub jumps_out : (m : Mode) (s : State) → Runs s → Left s.control → is_leaving s.control ≡ false → On (jumping m s)
  jumps_out m s r h stands =
      reaches (jumping m s) (operands_run [] s.activations s.masters s.heap tt r) h (may_jump m s.control stands)
      (set_seeks s.heap m s.control [] s.activations (none_seek s.heap m s.control))

  -- So they do where what is left to do begins anew.
  pub jumps : (m : Mode) (s : State) → Runs s → Left s.control → begins_anew s.control ≡ true → On (jumping m s)
  jumps m s r h anew = jumps_out m s r h (anew_stands s.control anew)

  -- They run on without the newest operand.
  pub popped_runs : (s : State) → Runs s → Runs (popped s)
  popped_runs s r = operands_run (older (operands s)) s.activations s.masters s.heap (elsewhere_older w.ghosts w.unnamed (operands s) r.operands) r

  -- They run on once a variable has a value that refers to no ghost.
  pub put_runs : (x : ℕ) (v : Value) (s : State) → IsElsewhere w.ghosts w.unnamed v → Runs s → Runs (put x v s)
  put_runs x v s other r =
      places_run (slice_set (places s) x v) s.activations s.masters s.heap (elsewhere_set w.ghosts w.unnamed (places s) x v other r.places) r
