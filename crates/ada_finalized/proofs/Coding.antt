-- Steps of code: none of them takes a frame of a treatment or of an ending.

use Rattle.std.proofs.Common.{◌≡◌, ℕ, ◌+◌, Bool, true, false, if◌then◌else◌, ◌&&◌, List, [], ◌∷◌, ◌++◌, length, map, Option, Some, None, refl, sym, ap, ◌∙◌, subst, arith}
use Rattle.std.specs.List.{slice_get}
use Rattle.ada_program.specs.declared.program.TypeDefinition.{TypeDefinition}
use Rattle.ada_program.specs.Controlled.{number_reached, shapes_of}
use Rattle.ada_program.specs.Form.{ActualForm}
use Rattle.ada_program.specs.ProgramForm.{BodyForm}
use Rattle.ada_parts.specs.declared.tasks.Direction.TheVariants.{WholeFirst}
use Rattle.ada_parts.specs.Law.{parts_left}
use Rattle.ada_meaning.specs.declared.state.Value.{Value}
use Rattle.ada_meaning.specs.declared.state.Value.TheVariants.{Null, Names, Scalar, Part as Inside}
use Rattle.ada_meaning.specs.declared.state.Mode.{Mode}
use Rattle.ada_meaning.specs.declared.state.Mode.TheVariants.{Running, Raising, Exiting, Returning}
use Rattle.ada_meaning.specs.declared.event.Cause.{Cause}
use Rattle.ada_meaning.specs.declared.event.Cause.TheVariants.{Leaving, Freeing, Assigning, Undoing}
use Rattle.ada_meaning.specs.Event.{Quiet}
use Rattle.ada_meaning.specs.Frame.{Frame, begins, ends, is_master, landing}
use Rattle.ada_meaning.specs.Frame as frame
use Rattle.ada_meaning.specs.Heap.{Cell, Found, on_gone, finds}
use Rattle.ada_meaning.specs.Step.{halts, moves, tells, asks, picks, at, older, operands, all_tasks, parts_held, finalizing, taken_out, places_of, operands_of, with_operands, with_places, places, stored_back, copied_back, storing, frame_next, jump_next}
use Rattle.ada_meaning.specs.Named.{Object, State, Next, named, look, existing, standing, standing_by, all_alive, on_object, parted}
use Rattle.ada_meaning.specs.Run.{Event}
use Rattle.ada_meaning.specs.Finalization.{assigned_by}
use Rattle.ada_meaning.specs.Ending.{frame_calls}
use Rattle.ada_meaning.proofs.Activations.{Shape, shape, Keeps}
use Rattle.ada_meaning.proofs.Kept.{IsWithin, frame_keeps}
use Rattle.ada_meaning.proofs.Members.{IsListed, member_seen}
use Rattle.ada_finalized.proofs.Counts.{count}
use Rattle.ada_finalized.proofs.Treated.{clearing_first, first, part_counts, get_within}
use Rattle.ada_finalized.proofs.Ranks.{Heap, bare, on_is}
use Rattle.ada_finalized.proofs.Doings.{name, Doing, Treating, Ending, doings, number_of, Calm, rest, calm_doings, same_doings, Fewer, fewer_treating, alike, on_same, on_other}
use Rattle.ada_finalized.proofs.Stacks.{Acts, Control, code, guard, Stack, calm, comes_back, to_end, ending_then, stack_acts, stack_alike, older_operands, older_places}
use Rattle.ada_finalized.proofs.Claims.{claims_flags}
use Rattle.ada_finalized.proofs.Leading.{Leading, leading_map, leading_both}
use Rattle.ada_finalized.proofs.Made.{Mild, Made, keeps, adds, frees, copies, Passes}
use Rattle.ada_finalized.proofs.Made as made
use Rattle.ada_finalized.proofs.Statements.{rest_storing}
use Rattle.ada_finalized.proofs.Walk.{frame_does, jump_calm}
use Rattle.ada_finalized.proofs.Invariant.{all_of, Sane, exists, is_gone, Inv, runs, finding, ends_operation, ending, source_next, Finding, seeks, AssignsThen, GoesOn}
use Rattle.ada_finalized.proofs.Going.{kept_goes, listed_exists}
use Rattle.ada_finalized.proofs.Created.{Fresh, by_number, by_leaving, created_goes, parted_goes}

-- What comes next leads where the invariant holds.
abbrev pub Leads : List TypeDefinition → List Event → State → Next → Type 0
Leads types past s n = Leading (GoesOn types past s) n

-- An object that is in its collection begins to be finalized and ended.
listed_sane : (types : List TypeDefinition) (x : Object) → x.listed ≡ true → Sane types x → Sane types (parted x)
listed_sane types x listed (exists stage out parts) = exists stage out parts
listed_sane types x listed (is_gone gone unlisted dead) = let never : true ≡ false = sym listed ∙ unlisted in absurd (cc never)

listed_parts : (types : List TypeDefinition) (x : Object) → x.listed ≡ true → Sane types x → length x.cell.parts ≡ parts_held types x.cell.access
listed_parts types x listed (exists stage out parts) = parts
listed_parts types x listed (is_gone gone unlisted dead) = let never : true ≡ false = sym listed ∙ unlisted in absurd (cc never)

ending_goes :
    (types : List TypeDefinition) (past : List Event) (s : State) (e : Event) (after : State) (o : ℕ) (x : Object) (cause : Cause) (pool : Option ℕ) (k : Control)
    → Inv types past s.heap s.next (doings s.control) → Mild e → slice_get s.heap o ≡ Some x → x.listed ≡ true → Fresh cause x s after → assigned_by (Some cause) ≡ None
    → doings k ≡ doings s.control → after.mode ≡ Running → after.heap ≡ on_object parted s.heap (name o)
    → after.control ≡ finalizing types (name o) x.cell cause (ending_then o cause pool k) → Stack types s.heap code after.activations k → GoesOn types past s e after
ending_goes types past s e after o x cause pool k inv mild at_o listed fresh own same running heap control h =
    let shapes = shapes_of types in
    let ds = doings s.control in
    let tasks = all_tasks types x.cell.access WholeFirst in
    let t = first types WholeFirst x.cell.access in
    let clearing = clearing_first shapes (all_of types x) tasks t in
    let stage = listed_exists types x listed (inv.sane o x at_o) in
    let later = Treating (name o) (ends cause) tasks ∷ Ending (name o) ∷ ds in
    let few : Fewer later (doings after.control) =
    subst (λ (c : Control). Fewer later (doings c)) (sym control)
    (fewer_treating (name o) (ends cause) tasks (Ending (name o) ∷ ds) (ending_then o cause pool k) (subst (λ (es : List Doing). Fewer (Ending (name o) ∷ ds) (Ending (name o) ∷ es)) (sym same) alike)) in
    parted_goes types past s e after o x cause tasks ds mild at_o fresh clearing inv.sane inv.fine inv.apart inv.there stage
    (listed_sane types x listed (inv.sane o x at_o))
    (claims_flags shapes s.heap o x (parted x) ds later at_o
    (λ j n ne.
    let a = on_other o j 1 ne in
    let b = on_other o j (count n (parts_left shapes tasks)) ne in
    omega (arith, a, b))
    inv.claims refl (λ was. was)
    (λ n p at_n.
    let a = on_same o 1 in
    let b = on_same o (count n (parts_left shapes tasks)) in
    let lt = get_within x.cell.parts n p at_n in
    let le = listed_parts types x listed (inv.sane o x at_o) in
    let some = part_counts shapes (number_reached types x.cell.access) n (omega (arith, lt, le)) in
    let each = t.each n in
    let once = t.once n in
    omega (arith, a, b, some, each, once)))
    (λ w u left is. is) (heap ∙ on_is parted s.heap o x at_o) few
    (ending running (to_end o cause pool tasks k control own clearing.once h))

-- What stands in its collection, with all values.
record Stood (xs : Heap) (v : Value) (cell : Cell Value) : Type 0 where
  place : ℕ
  object : Object
  named : v ≡ name place
  there : slice_get xs place ≡ Some object
  same : cell ≡ object.cell
  listed : object.listed ≡ true

cell_in : Cell Value → Found (Cell Value) → Cell Value
cell_in d (finds cell) = cell
cell_in d found = d

stood_at : (xs : Heap) (o : ℕ) (cell : Cell Value) (x : Object) (alive : Bool) (listed : Bool) → x.listed ≡ listed → slice_get xs o ≡ Some x → (if listed && alive then finds x.cell else on_gone) ≡ finds cell → Stood xs (name o) cell
unfolding cell_in
stood_at xs o cell x true true is at_o found = record { place = o; object = x; named = refl; there = at_o; same = ap (cell_in cell) (sym found); listed = is }
stood_at xs o cell x false true is at_o found = absurd (cc found)
stood_at xs o cell x alive false is at_o found = absurd (cc found)

stood_by : (xs : Heap) (o : ℕ) (cell : Cell Value) (at_o : Option Object) → slice_get xs o ≡ at_o → standing_by at_o ≡ finds cell → Stood xs (name o) cell
stood_by xs o cell None is found = absurd (cc found)
stood_by xs o cell (Some x) is found = stood_at xs o cell x (all_alive x.cell.parts) x.listed refl is found

stood : (xs : Heap) (v : Value) (cell : Cell Value) → standing xs v ≡ finds cell → Stood xs v cell
stood xs Null cell found = absurd (cc found)
stood xs (Names o) cell found = stood_by xs o.0 cell (slice_get xs o.0) refl found
stood xs (Scalar v) cell found = absurd (cc found)
stood xs (Inside o place) cell found = absurd (cc found)

listed_name : (xs : Heap) (v : Value) (l : IsListed 0 xs v) → v ≡ name l.place
listed_name xs v l = let same : 0 + l.place ≡ l.place = omega arith in l.named ∙ ap name same

none_assigned : (cause : Cause) → number_of cause ≡ None → assigned_by (Some cause) ≡ None
none_assigned (Leaving m i) none = refl
none_assigned (Freeing n) none = absurd (cc none)
none_assigned (Assigning n) none = absurd (cc none)
none_assigned (Undoing n) none = absurd (cc none)

-- Steps that keep the activations behind the running one.
older_in : Shape → Acts
older_in None = []
older_in (Some k) = k.callers

older_of : (acts : Acts) → older_in (shape acts) ≡ older acts
unfolding older_in
older_of [] = refl
older_of (a ∷ acts) = refl

pub same_older : (acts bs : Acts) → shape bs ≡ shape acts → older acts ≡ older bs
same_older acts bs e = sym (older_of acts) ∙ ap older_in (sym e) ∙ older_of bs

pub keeps_leads : (w : Shape) (n : Next) → Keeps w n → Leading (λ e u. shape u.activations ≡ w) n
keeps_leads w (halts halt) h = tt
keeps_leads w (moves e u) h = h
keeps_leads w (tells request e u) h = h
keeps_leads w (asks request answers) h = h
keeps_leads w (picks n taking) h = λ i lt. h i

calm_calls : (types : List TypeDefinition) (f : Frame Value) → Calm f → frame_calls types f ≡ false
calm_calls types (frame.Treats v treatment tasks) c = absurd c
calm_calls types f c = refl

module _ (types : List TypeDefinition) (past : List Event) (s : State) (f : Frame Value) (k : Control) (is : s.control ≡ f ∷ k) (c : Calm f) (h : Stack types s.heap code s.activations k) (inv : Inv types past s.heap s.next (doings s.control)) where
  same_behind : doings s.control ≡ doings k
  same_behind = ap doings is ∙ calm_doings f k c

  alike_behind : (j : Control) → rest j ≡ rest k → doings j ≡ doings s.control
  alike_behind j same = same_doings j k same ∙ sym same_behind

  stack_behind : (acts : Acts) (j : Control) → rest j ≡ rest k → older s.activations ≡ older acts → Stack types s.heap code acts j
  stack_behind acts j same old = stack_acts types s.heap s.activations acts j old (stack_alike types s.heap s.activations k j same h)

  made_goes :
      (running : s.mode ≡ Running) (e : Event) (after : State) → Mild e → Made types s.heap s.mode s.next (rest k) after → shape after.activations ≡ shape s.activations
      → GoesOn types past s e after
  made_goes running e after mild (keeps same left) old =
      kept_goes types past s e after inv mild same (alike_behind after.control left)
      (runs (stack_behind after.activations after.control left (same_older s.activations after.activations old)))
  made_goes running e after mild (adds cell by j new own left mode heap control) old =
      created_goes types past s cell by new own inv e after j mild (alike_behind j left) (mode ∙ running) heap control
      (stack_behind after.activations j left (same_older s.activations after.activations old))
  made_goes running e after mild (frees v cell pool j found left mode more heap control) old =
      let t = stood s.heap v cell found in
      ending_goes types past s e after t.place t.object (Freeing s.next) pool j inv mild t.there t.listed (by_number refl more) refl (alike_behind j left) (mode ∙ running)
      (heap ∙ ap (on_object parted s.heap) t.named)
      (control ∙ ap (λ (u : Value). finalizing types u cell (Freeing s.next) (frame.Ends u ∷ frame.GivesBack u (Freeing s.next) pool ∷ j)) t.named
      ∙ ap (λ (d : Cell Value). finalizing types (name t.place) d (Freeing s.next) (ending_then t.place (Freeing s.next) pool j)) t.same)
      (stack_behind after.activations j left (same_older s.activations after.activations old))
  made_goes running e after mild (made.takes v cause pool u none listed left mode heap was) old =
      let x = listed.object in
      let o = listed.place in
      let stage = listed_exists types x listed.listed (inv.sane o x listed.there) in
      let found : look s.heap v ≡ finds x.cell = member_seen s.heap v listed ∙ ap (existing x) stage in
      let same : after ≡ taken_out named types cause pool v (finds x.cell) u = was ∙ ap (λ (g : Found (Cell Value)). taken_out named types cause pool v g u) found in
      let name_is = listed_name s.heap v listed in
      ending_goes types past s e after o x cause pool u.control inv mild listed.there listed.listed (by_leaving none listed.listed) (none_assigned cause none)
      (alike_behind u.control left) (ap (λ (w : State). w.mode) same ∙ mode ∙ running)
      (ap (λ (w : State). w.heap) same ∙ ap (λ (ys : Heap). on_object parted ys v) heap ∙ ap (on_object parted s.heap) name_is)
      (ap (λ (w : State). w.control) same ∙ ap (λ (d : Value). finalizing types d x.cell cause (frame.Ends d ∷ frame.GivesBack d cause pool ∷ u.control)) name_is)
      (stack_behind after.activations u.control left (same_older s.activations after.activations old))
  made_goes running e after mild (copies target source t j same left mode control) old =
      kept_goes types past s e after inv mild same (ap doings control ∙ alike_behind j left)
      (finding (mode ∙ running)
      (subst (Finding after.heap (operands after)) (sym control) (seeks target (frame.Refers source ∷ frame.Assigns t ∷ j) (source_next source t j)))
      (subst (λ (d : Control). AssignsThen types s.heap after.activations (rest d)) (sym control)
      (stack_behind after.activations j left (same_older s.activations after.activations old))))

  pub calm_leads : (bodies : List BodyForm) → s.mode ≡ Running → IsWithin f → Leads types past s (frame_next named types bodies f (at k s))
  calm_leads bodies running within =
      let n = frame_next named types bodies f (at k s) in
      leading_map (λ e u. (Mild e × Made types s.heap s.mode s.next (rest k) u) × (shape u.activations ≡ shape s.activations)) (GoesOn types past s) n
      (λ e u m. made_goes running e u m.0.0 m.0.1 m.1)
      (leading_both (λ e u. Mild e × Made types s.heap s.mode s.next (rest k) u) (λ e u. shape u.activations ≡ shape s.activations) n
      (frame_does types bodies f (at k s) c within)
      (keeps_leads (shape s.activations) n (frame_keeps types bodies f (at k s) within (calm_calls types f c) refl)))

  -- A call begins.
  pub calls_leads :
      (bodies : List BodyForm) (procedure : ℕ) (b : BodyForm) (actuals : List ActualForm) → f ≡ frame.Calls procedure b actuals
      → Leads types past s (frame_next named types bodies (frame.Calls procedure b actuals) (at k s))
  calls_leads bodies procedure b actuals first =
      kept_goes types past s Quiet _ inv tt refl (sym same_behind)
      (runs (calm _ _ tt (comes_back actuals _ k (stack_behind _ k refl (sym (older_operands [] s.activations))))))

  pub jump_leads : (mode : Mode) → Leads types past s (jump_next named mode (f ∷ k) s)
  jump_leads mode =
      leading_map (λ e u. Mild e × (u.heap ≡ s.heap) × (rest u.control ≡ rest k) × (u.activations ≡ s.activations)) (GoesOn types past s) (jump_next named mode (f ∷ k) s)
      (λ e u m.
      kept_goes types past s e u inv m.0 (ap (map bare) m.1) (alike_behind u.control m.2)
      (runs (stack_behind u.activations u.control m.2 (sym (ap older m.3)))))
      (jump_calm types mode f k s c)

-- The end of a body.
resumed_same : (acts : Acts) → with_operands (operands_of acts) (with_places (places_of acts) acts) ≡ acts
resumed_same [] = refl
resumed_same (a ∷ acts) = refl

module _ (types : List TypeDefinition) (past : List Event) (s : State) (actuals : List ActualForm) (references : List Value) (k : Control) (is : s.control ≡ frame.Returns actuals references ∷ k) (inv : Inv types past s.heap s.next (doings s.control)) where
  same_doing : doings k ≡ doings s.control
  same_doing = sym (ap doings is)

  abbrev back : List Value
  back = stored_back actuals (places s) ++ operands_of (older s.activations)

  abbrev variables : List Value
  variables = copied_back actuals (places s) (places_of (older s.activations))

  returned_stack :
      Stack types s.heap code (older s.activations) k → Stack types s.heap code (with_operands back (with_places variables (older s.activations))) (storing named references k)
  returned_stack h =
      stack_acts types s.heap (older s.activations) (with_operands back (with_places variables (older s.activations))) (storing named references k)
      (sym (older_operands back (with_places variables (older s.activations)) ∙ older_places variables (older s.activations)))
      (stack_alike types s.heap (older s.activations) k (storing named references k) (rest_storing types references k) h)

  pub returns_lead : (bodies : List BodyForm) → Stack types s.heap code (older s.activations) k → Leads types past s (frame_next named types bodies (frame.Returns actuals references) (at k s))
  returns_lead bodies h =
      kept_goes types past s Quiet _ inv tt refl (same_doings (storing named references k) k (rest_storing types references k) ∙ same_doing)
      (runs (returned_stack h))

  pub returns_jump : (mode : Mode) → Stack types s.heap code (older s.activations) k → Leads types past s (jump_next named mode (frame.Returns actuals references ∷ k) s)
  returns_jump Running h = kept_goes types past s Quiet _ inv tt refl same_doing (runs h)
  returns_jump (Raising e) h = kept_goes types past s Quiet _ inv tt refl same_doing (runs h)
  returns_jump Exiting h = kept_goes types past s Quiet _ inv tt refl same_doing (runs h)
  returns_jump Returning h =
      kept_goes types past s Quiet _ inv tt refl (same_doings (storing named references k) k (rest_storing types references k) ∙ same_doing)
      (runs (returned_stack h))

module _ (types : List TypeDefinition) (past : List Event) (s : State) (k : Control) (is : s.control ≡ frame.Returns [] [] ∷ k) (inv : Inv types past s.heap s.next (doings s.control)) (h : Stack types s.heap guard (older s.activations) k) where
  operated_stack : Stack types s.heap guard (with_operands (operands_of (older s.activations)) (with_places (places_of (older s.activations)) (older s.activations))) k
  operated_stack = subst (λ (acts : Acts). Stack types s.heap guard acts k) (sym (resumed_same (older s.activations))) h

  pub operation_ends : (bodies : List BodyForm) → Leads types past s (frame_next named types bodies (frame.Returns [] []) (at k s))
  operation_ends bodies = kept_goes types past s Quiet _ inv tt refl (sym (ap doings is)) (ends_operation operated_stack)

  pub operation_jumps : (mode : Mode) → Leads types past s (jump_next named mode (frame.Returns [] [] ∷ k) s)
  operation_jumps Running = kept_goes types past s Quiet _ inv tt refl (sym (ap doings is)) (ends_operation h)
  operation_jumps (Raising e) = kept_goes types past s Quiet _ inv tt refl (sym (ap doings is)) (ends_operation h)
  operation_jumps Exiting = kept_goes types past s Quiet _ inv tt refl (sym (ap doings is)) (ends_operation h)
  operation_jumps Returning = kept_goes types past s Quiet _ inv tt refl (sym (ap doings is)) (ends_operation operated_stack)
