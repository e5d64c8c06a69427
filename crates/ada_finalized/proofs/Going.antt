-- Steps that keep all values, and what each step has to show.

use Rattle.std.proofs.Common.{◌≡◌, ◌≢◌, ℕ, ◌+◌, ◌≤◌, Bool, true, false, List, [], ◌∷◌, length, map, Option, Some, None, refl, sym, ap, ◌∙◌, inl, inr, subst, arith, length-set}
use Rattle.std.specs.List.{slice_get, slice_set}
use Rattle.std.proofs.lemmas.Bool.Decides.{eqb_tells}
use Rattle.ada_program.specs.declared.program.TypeDefinition.{TypeDefinition}
use Rattle.ada_program.specs.ProgramForm.{BodyForm}
use Rattle.ada_parts.specs.Part.{Part}
use Rattle.ada_parts.specs.Task.{Task}
use Rattle.ada_parts.proofs.Facts.{eq_self, eq_not}
use Rattle.ada_meaning.specs.declared.state.Value.{Value}
use Rattle.ada_meaning.specs.declared.state.Stage.TheVariants.{Existing, Gone}
use Rattle.ada_meaning.specs.declared.state.Mode.{Mode}
use Rattle.ada_meaning.specs.declared.state.Mode.TheVariants.{Running}
use Rattle.ada_meaning.specs.declared.event.Birth.{Birth}
use Rattle.ada_meaning.specs.Event.{Born, Finalized, Back, Followed, Left, Line, Quiet}
use Rattle.ada_meaning.specs.Frame.{Frame, begins}
use Rattle.ada_meaning.specs.Heap.{PartState, Cell, Found, on_gone, finds}
use Rattle.ada_meaning.specs.Step.{at, treating, frame_next, running_next, mode_next}
use Rattle.ada_meaning.specs.Named.{Object, State, named, next, look, existing, seen, with_part, treated}
use Rattle.ada_meaning.specs.Run.{Event}
use Rattle.ada_meaning.specs.Law.{back_of, cause_of}
use Rattle.ada_meaning.specs.Finalization.{assigned_by}
use Rattle.ada_finalized.proofs.Counts.{one_if, count}
use Rattle.ada_finalized.proofs.Ranks.{Heap, rank_at, rank_alike, bare, set_same, set_other}
use Rattle.ada_finalized.proofs.Doings.{name, doings, IsLeft}
use Rattle.ada_finalized.proofs.Stacks.{Control, code, Stack}
use Rattle.ada_finalized.proofs.Made.{Mild}
use Rattle.ada_finalized.proofs.Invariant.{Sane, exists, is_gone, AllSane, Inv, StaysThere, inv_alike, Stands, stands_on, runs, beginning, Untold, Told, still, GoesOn, origins_kept}

-- A mild event tells nothing.
mild_untold : (e : Event) → Mild e → Untold e
mild_untold (Born object part turn type number by) h = absurd h
mild_untold (Finalized object part turn type number cause) h = absurd h
mild_untold (Back object access number pool subpool cause) h = absurd h
mild_untold (Followed object) h = tt
mild_untold (Left master) h = tt
mild_untold (Line line) h = tt
mild_untold Quiet h = tt

mild_back : (e : Event) → Mild e → back_of e ≡ None
mild_back (Born object part turn type number by) h = absurd h
mild_back (Finalized object part turn type number cause) h = absurd h
mild_back (Back object access number pool subpool cause) h = absurd h
mild_back (Followed object) h = refl
mild_back (Left master) h = refl
mild_back (Line line) h = refl
mild_back Quiet h = refl

mild_cause : (e : Event) → Mild e → assigned_by (cause_of e) ≡ None
mild_cause (Born object part turn type number by) h = absurd h
mild_cause (Finalized object part turn type number cause) h = absurd h
mild_cause (Back object access number pool subpool cause) h = absurd h
mild_cause (Followed object) h = refl
mild_cause (Left master) h = refl
mild_cause (Line line) h = refl
mild_cause Quiet h = refl

pub mild_still :
    (types : List TypeDefinition) (past : List Event) (s : State) (e : Event) (after : State) → Mild e
    → ((j m : ℕ) → rank_at after.heap j m ≡ rank_at s.heap j m) → Told types past s e after
mild_still types past s e after mild ranks =
    still (mild_untold e mild) (mild_cause e mild) ranks (λ o is. let none = mild_back e mild in let never : None ≡ Some o = sym none ∙ is in absurd (cc never))

-- What comes next where a frame is first and nothing jumps.
pub next_is : (types : List TypeDefinition) (bodies : List BodyForm) (s : State) (f : Frame Value) (k : Control) → s.mode ≡ Running → s.control ≡ f ∷ k → next types bodies s ≡ frame_next named types bodies f (at k s)
unfolding next
next_is types bodies s f k running is =
    ap (λ (mode : Mode). mode_next named types bodies mode s) running ∙ ap (λ (c : Control). running_next named types bodies c s) is

-- A step that keeps all values, and what is being done.
pub kept_goes :
    (types : List TypeDefinition) (past : List Event) (s : State) (e : Event) (after : State) → Inv types past s.heap s.next (doings s.control) → Mild e
    → map bare after.heap ≡ map bare s.heap → doings after.control ≡ doings s.control → Stands types s.heap after → GoesOn types past s e after
kept_goes types past s e after inv mild alike same stands passed = record {
  fits = record {
    stands = stands_on types s.heap after passed.keeps stands;
    inv = subst (Inv types (e ∷ past) after.heap after.next) (sym same) (inv_alike types past e s.heap after.heap s.next after.next (doings s.control) passed.keeps passed.grows alike inv);
  };
  told = mild_still types past s e after mild (rank_alike s.heap after.heap alike);
  origins = origins_kept types s (doings after.control) (λ v treatment tasks. subst (IsLeft v treatment tasks) same);
}

-- An object is initialized or adjusted next, or code goes on.
pub begins_stand :
    (types : List TypeDefinition) (xs : Heap) (after : State) (o : ℕ) (by : Birth) (done : List Part) (tasks : List Task) (k : Control) → after.mode ≡ Running
    → after.control ≡ treating (name o) (begins by done) tasks k → Stack types xs code after.activations k → Stands types xs after
begins_stand types xs after o by done [] k running is h = runs (subst (Stack types xs code after.activations) (sym is) h)
begins_stand types xs after o by done (task ∷ tasks) k running is h = beginning o by done task tasks k running is h

-- Truths by their counts.
pub dead_of : (b : Bool) → one_if b ≡ 0 → b ≡ false
dead_of true e = absurd (omega (arith, e))
dead_of false e = refl

pub alive_of : (b : Bool) → 1 ≤ one_if b → b ≡ true
alive_of true le = refl
alive_of false le = absurd (omega (arith, le))

-- Counts of one part more.
pub one_here : (part : Part) (ps : List Part) → count part.number (part ∷ ps) ≡ 1 + count part.number ps
one_here part ps = let one = ap one_if (eq_self part.number) in omega (arith, one)

pub other_here : (part : Part) (ps : List Part) (m : ℕ) → part.number ≢ m → count m (part ∷ ps) ≡ count m ps
other_here part ps m ne = let none = ap one_if (eq_not part.number m ne) in omega (arith, none)

-- A part of an object changes.
length_with : (change : PartState → PartState) (n : ℕ) (found : Option PartState) (ps : List PartState) → length (with_part change n found ps) ≡ length ps
length_with change n None ps = refl
length_with change n (Some p) ps = length-set ps n (change p)

pub sane_treated : (types : List TypeDefinition) (change : PartState → PartState) (n : ℕ) (x : Object) → x.stage ≡ Existing → Sane types x → Sane types (treated change n x)
sane_treated types change n x stage (exists same out parts) = exists same out (length_with change n (slice_get x.cell.parts n) x.cell.parts ∙ parts)
sane_treated types change n x stage (is_gone gone listed dead) = let never : Existing ≡ Gone = sym stage ∙ gone in absurd (cc never)

-- An object changes.
pub sane_set : (types : List TypeDefinition) (xs : Heap) (o : ℕ) (x y : Object) → slice_get xs o ≡ Some x → Sane types y → AllSane types xs → AllSane types (slice_set xs o y)
sane_set types xs o x y at_o sane each j z is = elim (eqb_tells o j) [ inl h ↦ here h.1 | inr h ↦ each j z (sym (set_other xs o j y h.1) ∙ is) ]
  where
    here : o ≡ j → Sane types z
    here e =
        let both : Some y ≡ Some z = sym (set_same xs o x y at_o) ∙ ap (slice_get (slice_set xs o y)) e ∙ is in
        let one : y ≡ z = cc both in
        subst (Sane types) one sane

pub stays_set : (xs : Heap) (o : ℕ) (x y : Object) → slice_get xs o ≡ Some x → (x.stage ≡ Existing → y.stage ≡ Existing) → StaysThere xs (slice_set xs o y)
stays_set xs o x y at_o stage j z is was = elim (eqb_tells o j) [ inl h ↦ here h.1 | inr h ↦ (z, (set_other xs o j y h.1 ∙ is, was)) ]
  where
    here : o ≡ j → (w : Object) × ((slice_get (slice_set xs o y) j ≡ Some w) × (w.stage ≡ Existing))
    here e =
        let both : Some x ≡ Some z = sym at_o ∙ ap (slice_get xs) e ∙ is in
        let one : x ≡ z = cc both in
        (y, (ap (slice_get (slice_set xs o y)) (sym e) ∙ set_same xs o x y at_o, stage (ap (λ (u : Object). u.stage) one ∙ was)))

-- An object that exists: its words are out.
pub sane_out : (types : List TypeDefinition) (x : Object) → x.stage ≡ Existing → Sane types x → x.out ≡ true
sane_out types x stage (exists same out parts) = out
sane_out types x stage (is_gone gone listed dead) = let never : Existing ≡ Gone = sym stage ∙ gone in absurd (cc never)

pub listed_exists : (types : List TypeDefinition) (x : Object) → x.listed ≡ true → Sane types x → x.stage ≡ Existing
listed_exists types x listed (exists stage out parts) = stage
listed_exists types x listed (is_gone gone unlisted dead) = let never : true ≡ false = sym listed ∙ unlisted in absurd (cc never)

-- What is found exists.
pub record Seen (xs : Heap) (o : ℕ) (cell : Cell Value) : Type 0 where
  pub object : Object
  pub at_place : slice_get xs o ≡ Some object
  pub same : cell ≡ object.cell
  pub stage : object.stage ≡ Existing

-- No object is under construction for good.
module _ (types : List TypeDefinition) (xs : Heap) (sane : AllSane types xs) where
  cell_in : Cell Value → Found (Cell Value) → Cell Value
  cell_in d (finds cell) = cell
  cell_in d found = d

  seen_at : (o : ℕ) (cell : Cell Value) (x : Object) → slice_get xs o ≡ Some x → Sane types x → existing x x.stage ≡ finds cell → Seen xs o cell
  unfolding cell_in
  seen_at o cell x is (exists stage out parts) found =
      record { object = x; at_place = is; same = ap (cell_in cell) (sym found ∙ ap (existing x) stage); stage = stage }
  seen_at o cell x is (is_gone gone listed dead) found = let never : on_gone ≡ finds cell = sym (ap (existing x) gone) ∙ found in absurd (cc never)

  seen_by : (o : ℕ) (cell : Cell Value) (at_o : Option Object) → slice_get xs o ≡ at_o → seen at_o ≡ finds cell → Seen xs o cell
  seen_by o cell None is found = absurd (cc found)
  seen_by o cell (Some x) is found = seen_at o cell x is (sane o x is) found

  pub looked : (o : ℕ) (cell : Cell Value) → look xs (name o) ≡ finds cell → Seen xs o cell
  looked o cell found = seen_by o cell (slice_get xs o) refl found
