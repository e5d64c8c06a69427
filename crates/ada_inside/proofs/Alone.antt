-- No operation runs of an object that is new, or that a Free takes out of its collection, all of whose parts have values (4.8, 13.11.2).

use Rattle.std.proofs.Common.{◌≡◌, ℕ, ◌+◌, zero, suc, ◌<◌, Bool, true, false, ◌&&◌, if◌then◌else◌, List, [], ◌∷◌, length, ℤ, Option, Some, None, refl, sym, ap, ◌∙◌, subst, arith}
use Rattle.std.specs.List.{slice_get}
use Rattle.ada_program.specs.declared.program.Program.{Program}
use Rattle.ada_program.specs.declared.program.TypeDefinition.{TypeDefinition}
use Rattle.ada_program.specs.Controlled.{shapes_of}
use Rattle.ada_meaning.specs.declared.event.Cause.TheVariants.{Assigning}
use Rattle.ada_meaning.specs.declared.state.Id.{Id}
use Rattle.ada_meaning.specs.declared.state.Mode.TheVariants.{Running, Raising}
use Rattle.ada_meaning.specs.declared.state.Value.{Value}
use Rattle.ada_meaning.specs.declared.state.Value.TheVariants.{Null, Names, Scalar, Part as Inside}
use Rattle.ada_meaning.specs.Frame.{Frame, begins, ends}
use Rattle.ada_meaning.specs.Frame as frame
use Rattle.ada_meaning.specs.Heap.{PartState, Cell, on_gone, finds}
use Rattle.ada_meaning.specs.Named.{Object, State, standing, standing_by, all_alive}
use Rattle.ada_meaning.specs.Run.{Event, Run, first_state}
use Rattle.ada_meaning.specs.Step.{parts_held}
use Rattle.ada_finalized.specs.Law.{NothingBegins, NoOperationRunsOn}
use Rattle.ada_meaning.proofs.Members.{IsListed}
use Rattle.ada_finalized.proofs.Claims.{Claimed}
use Rattle.ada_finalized.proofs.Counts.{one_if}
use Rattle.ada_finalized.proofs.Doings.{name, same_name, Doing, Treating, Ending, doings, Calm, rest, rest_doings, Of, of_map, Other, Lasts, gains, losses}
use Rattle.ada_finalized.proofs.Going.{listed_exists}
use Rattle.ada_finalized.proofs.Invariant.{Sane, exists, is_gone, AssignsThen, Stands, runs, finding, passing, ends_operation, beginning, ending, leaving, storing, Fits}
use Rattle.ada_finalized.proofs.Ranks.{Heap}
use Rattle.ada_finalized.proofs.Stacks.{Acts, Control, code, guard, finalization, Stack, awaits, confines, to_end, to_copy, IsPart, IsSpare, others}
use Rattle.ada_finalized.proofs.Standing.{none_runs_on, none_runs_on_listed}
use Rattle.ada_finalized.proofs.Twice.{operated_exist}

-- A new object is not there yet.
none_there : {X : Type 0} (xs : List X) (x : X) → slice_get xs (length xs) ≡ Some x → ⊥
none_there [] x is = cc is
none_there (y ∷ xs) x is = none_there xs x is

pub new_alone : (program : Program) (input : List ℤ) (events : List Event) (s : State) → Run program (first_state program input) events s
    → NoOperationRunsOn (name (length s.heap)) s.control
new_alone program input events s run =
    operated_exist program input events s run (record { 0 = length s.heap })
    (λ there. missing there.0 there.1 there.2 there.3)
  where
    missing : (o : Id) → name (length s.heap) ≡ Names o → (x : Object) → slice_get s.heap o.0 ≡ Some x → ⊥
    missing o is x at_o = none_there s.heap x (ap (slice_get s.heap) (same_name (length s.heap) o.0 is) ∙ at_o)

-- One that leaves its collection, where nothing initializes or adjusts it.
pub listed_alone : (program : Program) (input : List ℤ) (events : List Event) (s : State) → Run program (first_state program input) events s → (v : Value)
    → IsListed 0 s.heap v → NothingBegins v s.control → NoOperationRunsOn v s.control
listed_alone program input events s run v l none =
    let o : Id = record { 0 = l.place } in
    let same : 0 + l.place ≡ l.place = omega arith in
    let named : v ≡ Names o = l.named ∙ ap name same in
    subst (λ (w : Value). NoOperationRunsOn w s.control) (sym named)
    (none_runs_on_listed program input events s run o l.object l.there l.listed (subst (λ (w : Value). NothingBegins w s.control) named none))

-- What stands in its collection, with all values.
pub record Stood (xs : Heap) (v : Value) : Type 0 where
  pub place : ℕ
  pub object : Object
  pub named : v ≡ name place
  pub there : slice_get xs place ≡ Some object
  pub listed : object.listed ≡ true
  pub alive : all_alive object.cell.parts ≡ true

stood_at : (xs : Heap) (o : ℕ) (cell : Cell Value) (x : Object) (alive listed : Bool) → x.listed ≡ listed → all_alive x.cell.parts ≡ alive → slice_get xs o ≡ Some x
    → (if listed && alive then finds x.cell else on_gone) ≡ finds cell → Stood xs (name o)
stood_at xs o cell x true true is all at_o found = record { place = o; object = x; named = refl; there = at_o; listed = is; alive = all }
stood_at xs o cell x false true is all at_o found = absurd (cc found)
stood_at xs o cell x alive false is all at_o found = absurd (cc found)

stood_by : (xs : Heap) (o : ℕ) (cell : Cell Value) (at_o : Option Object) → slice_get xs o ≡ at_o → standing_by at_o ≡ finds cell → Stood xs (name o)
stood_by xs o cell None is found = absurd (cc found)
stood_by xs o cell (Some x) is found = stood_at xs o cell x (all_alive x.cell.parts) x.listed refl refl is found

pub stood : (xs : Heap) (v : Value) (cell : Cell Value) → standing xs v ≡ finds cell → Stood xs v
stood xs Null cell found = absurd (cc found)
stood xs (Names o) cell found = stood_by xs o.0 cell (slice_get xs o.0) refl found
stood xs (Scalar v) cell found = absurd (cc found)
stood xs (Inside o place) cell found = absurd (cc found)

-- Each of these parts has a value.
each_alive : (ps : List PartState) → all_alive ps ≡ true → (n : ℕ) → n < length ps → (p : PartState) × ((slice_get ps n ≡ Some p) × (p.alive ≡ true))
each_alive [] all n lt = absurd (omega (arith, lt))
each_alive (p ∷ ps) all zero lt = (p, (refl, first p.alive all))
  where
    first : (b : Bool) → (b && all_alive ps) ≡ true → b ≡ true
    first true h = refl
    first false h = h
each_alive (p ∷ ps) all (suc n) lt = each_alive ps (later p.alive all) n (omega (arith, lt))
  where
    later : (b : Bool) → (b && all_alive ps) ≡ true → all_alive ps ≡ true
    later true h = h
    later false h = absurd (cc h)

alive_one : (b : Bool) → b ≡ true → one_if b ≡ 1
alive_one true is = refl
alive_one false is = absurd (cc is)

parts_there : (types : List TypeDefinition) (x : Object) → x.listed ≡ true → Sane types x → length x.cell.parts ≡ parts_held types x.cell.access
parts_there types x listed (exists stage out parts) = parts
parts_there types x listed (is_gone gone unlisted dead) = let never : true ≡ false = sym listed ∙ unlisted in absurd (cc never)

-- A frame that neither copies nor stores a record.
abbrev pub IsPlain : Frame Value → Type 0
IsPlain (frame.Copies first t) = ⊥
IsPlain (frame.StoresRecord v to width) = ⊥
IsPlain f = Unit {0}

-- What nothing is done to lasts.
other_lasts : (o : ℕ) (d : Doing) → Other o d → Lasts o d
other_lasts o (Treating v (begins by done) tasks) other = other
other_lasts o (Treating v (ends cause) tasks) other = tt
other_lasts o (Ending v) other = other

module _ (types : List TypeDefinition) (past : List Event) (s : State) (h : Fits types past s) where
  -- None of its parts is waited for.
  none_spare : (o : ℕ) (x : Object) → slice_get s.heap o ≡ Some x → x.listed ≡ true → all_alive x.cell.parts ≡ true → (n : ℕ) → IsPart types s.heap o n → IsSpare types o n (doings s.control) → ⊥
  none_spare o x at_o listed all n (y, (is, lt)) spare =
      let shapes = shapes_of types in
      let both : Some y ≡ Some x = sym is ∙ at_o in
      let one : y ≡ x = cc both in
      let sane = h.inv.sane o x at_o in
      let le = parts_there types x listed sane in
      let within = subst (λ (z : Object). n < parts_held types z.cell.access) one lt in
      let p = each_alive x.cell.parts all n (omega (arith, within, le)) in
      let c = subst (λ (found : Option Object). Claimed found n (gains shapes o n (doings s.control)) (losses shapes o n (doings s.control))) at_o (h.inv.claims o n)
      (listed_exists types x listed sane) p.0 p.1.0 in
      let a = alive_one p.0.alive p.1.1 in
      omega (arith, a, c, spare)

  -- Nothing is done to it behind code, or behind what is found.
  other_assigns :
      (o : ℕ) → ((n : ℕ) → IsPart types s.heap o n → IsSpare types o n (doings s.control) → ⊥) → (c : Control) → doings c ≡ doings s.control
      → AssignsThen types s.heap s.activations c → Of (Other o) (doings c)
  other_assigns o never [] same after = absurd after
  other_assigns o never (frame.Assigns t ∷ k) same after =
      others types s.heap code s.activations k after o (λ kind. absurd (cc kind)) (λ n p spare. never n p (subst (IsSpare types o n) same spare))
  other_assigns o never (f ∷ k) same after = absurd after

  -- Code comes first that copies no record with controlled parts.
  module _ (f : Frame Value) (k : Control) (is : s.control ≡ f ∷ k) (on : s.mode ≡ Running) (c : Calm f) (plain : IsPlain f) (o : ℕ)
      (never : (n : ℕ) → IsPart types s.heap o n → IsSpare types o n (doings s.control) → ⊥) where
    no_guard : (acts : Acts) (j : Control) → f ∷ k ≡ j → Stack types s.heap guard acts j → ⊥
    no_guard acts _ e (awaits v by done of part left j some p h') = let first : f ≡ frame.Awaits v by done of part left = cc e in subst Calm first c
    no_guard acts _ e (confines j some p h') = let first : f ≡ frame.Confines = cc e in subst Calm first c

    no_finalization : (acts : Acts) (j : Control) → f ∷ k ≡ j → Stack types s.heap finalization acts j → ⊥
    no_finalization acts j e (to_end i cause pool [] later e2 own once h') = let first : f ≡ frame.Ends (name i) = cc (e ∙ e2) in subst Calm first c
    no_finalization acts j e (to_end i cause pool (task ∷ left) later e2 own once h') =
        let first : f ≡ frame.Treats (name i) (ends cause) (task ∷ left) = cc (e ∙ e2) in subst Calm first c
    no_finalization acts j e (to_copy i m from u to width source [] left later e2 less once operand h') =
        let first : f ≡ frame.Copies from u = cc (e ∙ e2) in subst IsPlain first plain
    no_finalization acts j e (to_copy i m from u to width source (task ∷ more) left later e2 less once operand h') =
        let first : f ≡ frame.Treats (name i) (ends (Assigning m)) (task ∷ more) = cc (e ∙ e2) in subst Calm first c

    untouched : Stands types s.heap s → Of (Other o) (doings s.control)
    untouched (runs h') = others types s.heap code s.activations s.control h' o (λ kind. absurd (cc kind)) never
    untouched (finding on' g after) = subst (Of (Other o)) (rest_doings s.control) (other_assigns o never (rest s.control) (rest_doings s.control) after)
    untouched (passing e raising p after) = let no : Running ≡ Raising e = sym on ∙ raising in absurd (cc no)
    untouched (ends_operation h') = absurd (no_guard s.activations s.control (sym is) h')
    untouched (beginning i by done task left j on' e h') = let first : f ≡ frame.Treats (name i) (begins by done) (task ∷ left) = cc (sym is ∙ e) in absurd (subst Calm first c)
    untouched (ending on' h') = absurd (no_finalization s.activations s.control (sym is) h')
    untouched (leaving i x cause pool j on' e own h' at_i gone) = let first : f ≡ frame.GivesBack (name i) cause pool = cc (sym is ∙ e) in absurd (subst Calm first c)
    untouched (storing i n to width left j on' e h') = let first : f ≡ frame.StoresRecord (name i) to width = cc (sym is ∙ e) in absurd (subst IsPlain first plain)

  -- So no operation of an object runs that a Free may end.
  pub freed_alone : (f : Frame Value) (k : Control) → s.control ≡ f ∷ k → s.mode ≡ Running → Calm f → IsPlain f → (v : Value) (cell : Cell Value) → standing s.heap v ≡ finds cell
      → NoOperationRunsOn v s.control
  freed_alone f k is on c plain v cell found =
      let t = stood s.heap v cell found in
      subst (λ (w : Value). NoOperationRunsOn w s.control) (sym t.named)
      (none_runs_on types s t.place h.stands
      (of_map (Other t.place) (Lasts t.place) (doings s.control) (other_lasts t.place)
      (untouched f k is on c plain t.place (none_spare t.place t.object t.there t.listed t.alive) h.stands)))
