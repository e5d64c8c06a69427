-- One step keeps the invariant.

use Rattle.std.proofs.Common.{◌≡◌, ℕ, zero, suc, Bool, true, false, List, [], ◌∷◌, refl, sym, ap, ◌∙◌, inl}
use Rattle.ada_program.specs.declared.program.TypeDefinition.{TypeDefinition}
use Rattle.ada_program.specs.declared.program.VariableKind.TheVariants as variable
use Rattle.ada_program.specs.Form.{ItemForm, LinksForm, RightForm}
use Rattle.ada_program.specs.ProgramForm.{TypeForm, VariableForm, BodyForm, ProgramForm}
use Rattle.ada_program.specs.Typed.{words_of}
use Rattle.ada_meaning.specs.declared.state.Value.{Value}
use Rattle.ada_meaning.specs.declared.state.Value.TheVariants.{Null, Names, Scalar, Part}
use Rattle.ada_meaning.specs.declared.state.Mode.{Mode}
use Rattle.ada_meaning.specs.declared.state.Mode.TheVariants.{Running, Raising, Exiting, Returning}
use Rattle.ada_meaning.specs.Frame.{Frame, Elaborates, Does, Decides, Repeats, Turns, Ranges, Counts, Exits, Handles, Closes, Leaves, Calls, Returns, is_return, Evaluates, Computes, Follows, TestsNull, Refers, RefersIn, Opens, OpensIn, Continues, Applies, AppliesAlone, Fills, Copies, Creates, Stores, Targets, StoresIn, TargetsRecord, StoresRecord, Assigns, Receives, FreesIn, Declares, DeclaresRecord, Treats, Writes, Ends, GivesBack, Clears, ClearsIn}
use Rattle.ada_meaning.specs.Frame as frame
use Rattle.ada_meaning.specs.Event.{Quiet}
use Rattle.ada_meaning.specs.State.{Activation, Master}
use Rattle.ada_meaning.specs.Law.{items_of}
use Rattle.ada_meaning.specs.Step.{first_or, older, places_of, operands_of, frame_next, mode_next}
use Rattle.ada_meaning.specs.Named.{Object, State, named, next}
use Rattle.ada_effects.specs.Effects.{unary_raises, binary_raises}
use Rattle.ada_scopes.specs.Scopes.{CollectTwoTypes}
use Rattle.ada_typed.proofs.Control.{OwnBody}
use Rattle.ada_typed.specs.Holding.{Cells, cells_of, HasKind, HaveKinds}
use Rattle.ada_typed.proofs.Values.{OperandKind, RefersToRecord, of_kind, lies_in, AreComputed, AreHeld, AreFilled, filled_at, kind_of}
use Rattle.ada_sound.proofs.Fits.{IsPlain, ArePlain, Outsiders}
use Rattle.ada_sound.proofs.Passed.{refers_fine, referred_fine, opens_fine, opened_fine}
use Rattle.std.specs.List.{AllPairs, slice_get}
use Rattle.std.specs.Prelude.{Some, ◌||◌}
use Rattle.ada_program.specs.declared.program.ComponentKind.{ComponentKind}
use Rattle.ada_program.specs.declared.program.ComponentKind.TheVariants as component
use Rattle.ada_program.specs.WellFormed.{held_kind}
use Rattle.ada_program.specs.Typed.{width_of}
use Rattle.ada_typed.proofs.Evaluations.{cell_at}
use Rattle.ada_typed.proofs.Values as typing
use Rattle.ada_typed.proofs.Control as typed
use Rattle.ada_typed.proofs.Kept.{crosses as crosses_by, is_treatment}
use Rattle.ada_sound.proofs.Calm.{ends_operation, operation_ends_there}
use Rattle.ada_meaning.specs.declared.state.Id.{Id}
use Rattle.ada_sound.proofs.Homes.{Pooled, NoneIsUnder, HaveHomes}
use Rattle.ada_sound.proofs.Standing.{AllStand, FinalizesBy, FinalizesIn, FreesAmong}
use Rattle.ada_sound.proofs.Invariant.{innermost, Known, outers, Control, ReadyBy, ReadyIn, IsActive, Ready, Fine, departs, departs_next}
use Rattle.ada_sound.proofs.Ready.{running, at_work, at_less, runs_on, goes_in_mode}
use Rattle.ada_sound.proofs.Raising.{unary_only, binary_only}
use Rattle.ada_sound.proofs.Expressions.{outcome_fine, null_test_fine, expression_fine, links_fine}
use Rattle.ada_sound.proofs.Statements.{begins_call, declarations_fine, repeats_fine, counts_fine, ranges_fine, decided_fine, turned_fine, exited_fine, stmts_fine}
use Rattle.ada_sound.proofs.CallStatements.{MayCall}
use Rattle.ada_sound.proofs.CopiedOwners.{CopiesWell}
use Rattle.ada_sound.proofs.Gathered.{AllocatesBare}
use Rattle.ada_sound.proofs.Allocators.{items_fine, creates_fine}
use Rattle.ada_sound.proofs.Defaults.{Reaches}
use Rattle.ada_sound.proofs.Evaluations.{evaluates_fine, follows_fine, stores_fine, declares_fine, writes_fine}
use Rattle.ada_sound.proofs.DeclaredOwners.{recorded_fine}
use Rattle.ada_sound.proofs.Wholes.{copies_fine, record_target_fine, store_record_fine}
use Rattle.ada_sound.proofs.RecordAssignments.{assigns_fine}
use Rattle.ada_sound.proofs.Releases.{free_in_fine}
use Rattle.ada_sound.proofs.Targets.{target_fine, store_fine, receive_fine, clear_fine}
use Rattle.ada_sound.proofs.Leavings.{GoesWell, HeldIn, NamedBelow}
use Rattle.ada_sound.proofs.Endings.{ends_fine, backs_fine, leave_fine}
use Rattle.ada_sound.proofs.Treatments.{awaits_fine, confines_fine}
use Rattle.ada_sound.proofs.Jumps.{closes_fine, raising_fine, exiting_fine, returning_fine}

-- Where a kind is waited for, an operand is there.
no_operand : (types : List TypeForm) (cells : Cells) (kinds : List OperandKind) (kind : OperandKind) (ks : List OperandKind) → kinds ≡ kind ∷ ks → AreComputed types cells kinds [] → ⊥
no_operand types cells kinds kind ks is computed = let none : AreComputed types cells (kind ∷ ks) [] = rw is at computed in none

-- What typing says of a state where no jump is on its way.
abbrev pub RunsTyped : Known → List Object → Control → (places operands : List Value) → Type 0
RunsTyped known heap k places operands =
    (kinds : List OperandKind) × typed.Fits known.program (cells_of heap) kinds k × AreComputed known.program.types (cells_of heap) kinds operands
    × AreHeld known.program.types (cells_of heap) known.program.variables places

active_computed : (types : List TypeForm) (cells : Cells) (variables : List VariableForm) (kinds : List OperandKind) (all : List (Activation Value)) → typing.IsActive types cells variables kinds all → AreComputed types cells kinds (operands_of all)
active_computed types cells variables kinds [] active = absurd active
active_computed types cells variables kinds (a ∷ rest) active = active.1

active_held : (types : List TypeForm) (cells : Cells) (variables : List VariableForm) (kinds : List OperandKind) (all : List (Activation Value)) → typing.IsActive types cells variables kinds all → AreHeld types cells variables (places_of all)
active_held types cells variables kinds [] active = absurd active
active_held types cells variables kinds (a ∷ rest) active = active.0

pub runs_typed : (known : Known) (s : State) → typed.TypedIn known.program s → s.mode ≡ Running → ends_operation s.control ≡ false → RunsTyped known s.heap s.control (places_of s.activations) (operands_of s.activations)
runs_typed known s (typed.running kinds ready fits) runs none = (kinds, fits, active_computed known.program.types (cells_of s.heap) known.program.variables kinds s.activations ready.active, active_held known.program.types (cells_of s.heap) known.program.variables kinds s.activations ready.active)
runs_typed known s (typed.operated kinds ready ended) runs none = let there = operation_ends_there known.program (cells_of s.heap) kinds s.control ended in absurd (cc (there, none))
runs_typed known s (typed.out_of_operation e kinds jumps ended) runs none = let there = operation_ends_there known.program (cells_of s.heap) kinds s.control ended in absurd (cc (there, none))
runs_typed known s (typed.on_jump mode jumps goes) runs none =
    let same : mode ≡ Running = sym jumps.jumps ∙ runs in
    let nowhere : typed.Goes known.program (cells_of s.heap) Running s.control = rw same at goes in
    absurd nowhere

-- Objects of access types are from pools, as typing has it, and no component refers to a record.
abbrev pub HeapTyped : ProgramForm → List Object → Type 0
HeapTyped p heap = Pooled p.types heap × ArePlain heap

held_plain : (types : List TypeForm) (cells : Cells) (kind : ComponentKind) (v : Value) → HasKind types cells (held_kind kind) v → IsPlain v
held_plain types cells kind Null has = tt
held_plain types cells kind (Names o) has = tt
held_plain types cells kind (Scalar n) has = tt
held_plain types cells (component.Integer initial) (Part o first) has = absurd has
held_plain types cells (component.Boolean initial) (Part o first) has = absurd has
held_plain types cells (component.Access access) (Part o first) has = absurd has

kinds_plain : (types : List TypeForm) (cells : Cells) (kinds : List ComponentKind) (vs : List Value) (c : ℕ) (v : Value) → HaveKinds types cells kinds vs → slice_get vs c ≡ Some v → IsPlain v
kinds_plain types cells kinds [] c v have at = absurd (cc at)
kinds_plain types cells [] (w ∷ vs) c v have at = absurd have
kinds_plain types cells (kind ∷ kinds) (w ∷ vs) zero v have at = let same : w ≡ v = cc at in rw (← same) (held_plain types cells kind w have.0)
kinds_plain types cells (kind ∷ kinds) (w ∷ vs) (suc c) v have at = kinds_plain types cells kinds vs c v have.1 at

heap_typed_by : (p : ProgramForm) (heap : List Object) → AreFilled p.types (cells_of heap) (cells_of heap) → HeapTyped p heap
heap_typed_by p heap filled = (
  (λ o object found is. (filled_at p.types (cells_of heap) (cells_of heap) o.0 object.cell filled (cell_at heap o.0 object found)).3 is),
  (λ o object c v found at. (let f = filled_at p.types (cells_of heap) (cells_of heap) o.0 object.cell filled (cell_at heap o.0 object found) in kinds_plain p.types (cells_of heap) f.0 object.cell.values c v f.2 at)),
)

pub heap_typed : (p : ProgramForm) (s : State) → typed.TypedIn p s → HeapTyped p s.heap
heap_typed p s (typed.running kinds r fits) = heap_typed_by p s.heap r.filled
heap_typed p s (typed.on_jump mode j goes) = heap_typed_by p s.heap j.filled
heap_typed p s (typed.operated kinds r ended) = heap_typed_by p s.heap r.filled
heap_typed p s (typed.out_of_operation e kinds j ended) = heap_typed_by p s.heap j.filled

-- What a step needs of a state besides: where words go back to, that no component refers to a record, that the running body frees by the instances for what
-- it frees, and that no object is under way that may be freed next.
pub record StateTyped (p : ProgramForm) (may : ℕ → Bool) (under : List Id) (heap : List Object) (masters : List Master) : Type 0 where
  pub pooled : Pooled p.types heap
  pub lone : AllPairs CollectTwoTypes (items_of masters)
  pub plain : ArePlain heap
  pub own : OwnBody p
  pub aside : NoneIsUnder may under heap

-- Where something is freed, it goes back home.
homes_in : {p : ProgramForm} {may : ℕ → Bool} {outer : Outsiders} {heap : List Object} {masters : List Master} → StateTyped p may outer.under heap masters → AllStand may p.types outer heap → HaveHomes may p.types outer heap masters
homes_in kept stand = record { pooled = kept.pooled; lone = kept.lone; stand = stand; aside = kept.aside }

-- Does the next step begin the body of a call, or does it come to the end of one; or is it one of a treatment, which may call an operation?
abbrev pub crosses : Mode → Control → Bool
crosses mode [] = false
crosses Running (f ∷ k) = crosses_by f || is_treatment f
crosses (Raising e) (f ∷ k) = is_return f
crosses Exiting (f ∷ k) = is_return f
crosses Returning (f ∷ k) = is_return f

-- Is a call statement next (6.4)?
abbrev pub calls_next : Control → Bool
calls_next (Does fs ∷ k) = begins_call fs
calls_next k = false

module _ (known : Known) (copies : CopiesWell known.program.types) (may : ℕ → Bool) where
  module _ (types : List TypeDefinition) (reaches : Reaches known types) (bodies : List BodyForm) (k : Control) (a : Activation Value) (rest : List (Activation Value)) (s : State) where
    -- Frames that take an operand, which is there.
    path_fine : (plain : ArePlain s.heap) (cs : List ℕ) (operands : List Value) → RunsTyped known s.heap (Follows cs ∷ k) a.places operands → ReadyBy known (Follows cs) k s.heap a.places operands s.masters → Fine known s.heap s.masters (frame_next named types bodies (Follows cs) (running k (record a { operands = operands }) rest s))
    path_fine plain cs [] t r = let fits = t.1 in absurd (no_operand known.program.types (cells_of s.heap) t.0 (of_kind fits.1) fits.0 fits.3 t.2)
    path_fine plain cs (v ∷ below) t r = follows_fine known k a rest s plain cs v below t.0 t.1 t.2 r

    chain_fine : (links : LinksForm) (operands : List Value) → RunsTyped known s.heap (Continues links ∷ k) a.places operands → ReadyBy known (Continues links) k s.heap a.places operands s.masters → Fine known s.heap s.masters (frame_next named types bodies (Continues links) (running k (record a { operands = operands }) rest s))
    chain_fine links [] t r = let fits = t.1 in absurd (no_operand known.program.types (cells_of s.heap) t.0 (of_kind (kind_of fits.1)) fits.0 fits.3 t.2)
    chain_fine links (v ∷ below) t r = links_fine known k a rest s v below links r

    found_fine : (c : ℕ) (right : RightForm) (operands : List Value) → RunsTyped known s.heap (Targets c right ∷ k) a.places operands → ReadyBy known (Targets c right) k s.heap a.places operands s.masters → Fine known s.heap s.masters (frame_next named types bodies (Targets c right) (running k (record a { operands = operands }) rest s))
    found_fine c right [] t r = let fits = t.1 in absurd (no_operand known.program.types (cells_of s.heap) t.0 (of_kind (variable.Access fits.1)) fits.0 fits.3 t.2)
    found_fine c right (v ∷ below) t r = target_fine known k a rest s v below c right t.0 t.1 t.2 r

    put_fine : (o : Value) (c : ℕ) (operands : List Value) → RunsTyped known s.heap (StoresIn o c ∷ k) a.places operands → ReadyBy known (StoresIn o c) k s.heap a.places operands s.masters → Fine known s.heap s.masters (frame_next named types bodies (StoresIn o c) (running k (record a { operands = operands }) rest s))
    put_fine o c [] t r = let fits = t.1 in absurd (no_operand known.program.types (cells_of s.heap) t.0 (of_kind fits.2) fits.0 fits.3 t.2)
    put_fine o c (v ∷ below) t r = store_fine known k a rest s o v below c t.0 t.1 t.2 r

    record_found : (first u : ℕ) (items : List ItemForm) (operands : List Value) → RunsTyped known s.heap (TargetsRecord first u items ∷ k) a.places operands → ReadyBy known (TargetsRecord first u items) k s.heap a.places operands s.masters → Fine known s.heap s.masters (frame_next named types bodies (TargetsRecord first u items) (running k (record a { operands = operands }) rest s))
    record_found first u items [] t r = let fits = t.1 in absurd (no_operand known.program.types (cells_of s.heap) t.0 (of_kind (variable.Access fits.1)) fits.0 fits.3 t.2)
    record_found first u items (v ∷ below) t r = record_target_fine known types reaches k a rest s first u items v below t.0 t.1 t.2 r

    record_copied : (first u : ℕ) (operands : List Value) → RunsTyped known s.heap (Copies first u ∷ k) a.places operands → ReadyBy known (Copies first u) k s.heap a.places operands s.masters → Fine known s.heap s.masters (frame_next named types bodies (Copies first u) (running k (record a { operands = operands }) rest s))
    record_copied first u [] t r = let fits = t.1 in absurd (no_operand known.program.types (cells_of s.heap) t.0 (of_kind (variable.Access fits.1)) fits.0 fits.3 t.2)
    record_copied first u (v ∷ below) t r = copies_fine known types reaches k a rest s first u v below t.0 t.1 t.2 r

    second_refers : (u : ℕ) (ks : List OperandKind) (vs : List Value) → AreComputed known.program.types (cells_of s.heap) (lies_in u ∷ ks) vs → RefersToRecord known.program.types (cells_of s.heap) u (first_or Null vs)
    second_refers u ks [] computed = absurd computed
    second_refers u ks (v ∷ vs) computed = computed.0

    assigned_by : (u : ℕ) (operands : List Value) → RunsTyped known s.heap (Assigns u ∷ k) a.places operands → ReadyBy known (Assigns u) k s.heap a.places operands s.masters → Fine known s.heap s.masters (frame_next named types bodies (Assigns u) (running k (record a { operands = operands }) rest s))
    assigned_by u [] t r = let fits = t.1 in absurd (no_operand known.program.types (cells_of s.heap) t.0 (lies_in u) (lies_in u ∷ fits.0) fits.2 t.2)
    assigned_by u (v ∷ below) t r =
        let fits = t.1 in
        let computed : AreComputed known.program.types (cells_of s.heap) (lies_in u ∷ lies_in u ∷ fits.0) (v ∷ below) = rw (fits.2) at (t.2) in
        assigns_fine known a rest s types reaches k u (v ∷ below) computed.0 (second_refers u fits.0 below computed.1) r

    frame_fine : (f : Frame Value) → (calls_next (f ∷ k) ≡ true → MayCall known bodies) → AllocatesBare known.program known.touches (f ∷ k) → crosses Running (f ∷ k) ≡ false → RunsTyped known s.heap (f ∷ k) a.places a.operands → StateTyped known.program may (outers known).under s.heap s.masters → FinalizesBy may known.program.types (outers known) types bodies f (running k a rest s) → FreesAmong may (f ∷ k) → ((mode : Mode) (behind : Control) → f ∷ k ≡ Leaves mode ∷ behind → HeldIn s.heap s.masters × NamedBelow (outers known) s.heap s.masters × GoesWell known.program.types s.heap (innermost s.masters)) → departs_next (departs known.ahead (innermost s.masters)) (f ∷ k) ≡ false → ReadyBy known f k s.heap a.places a.operands s.masters → Fine known s.heap s.masters (frame_next named types bodies f (running k a rest s))
    frame_fine (Elaborates ds fs hs) calling bare inner t kept well freely low stays r = declarations_fine known a rest s copies fs hs k types ds t.3 t.1.2 r
    frame_fine (Does fs) calling bare inner t kept well freely low stays r = stmts_fine known a rest s may types reaches bodies copies t.1.1 fs calling k t.3 bare.0 (homes_in kept well) freely t.1.2.0 (t.1.2.1 kept.own) r
    frame_fine (Decides fs branches) calling bare inner t kept well freely low stays r = decided_fine known (record a { operands = older a.operands }) rest s fs branches (named.reads_boolean (first_or Null a.operands)) k r
    frame_fine (Repeats condition body) calling bare inner t kept well freely low stays r = repeats_fine known a rest s condition body k r
    frame_fine (Turns e body) calling bare inner t kept well freely low stays r = turned_fine known (record a { operands = older a.operands }) rest s e body (named.reads_boolean (first_or Null a.operands)) k r
    frame_fine (Ranges x body) calling bare inner t kept well freely low stays r = ranges_fine known (record a { operands = older (older a.operands) }) rest s x body (named.reads_integer (first_or Null (older a.operands))) (named.reads_integer (first_or Null a.operands)) k r
    frame_fine (Counts x next last body) calling bare inner t kept well freely low stays r = counts_fine known a rest s x next last body k r
    frame_fine Exits calling bare inner t kept well freely low stays r = exited_fine known (record a { operands = older a.operands }) rest s (named.reads_boolean (first_or Null a.operands)) k r
    frame_fine (Handles hs) calling bare inner t kept well freely low stays r = runs_on known k a rest s (at_less r r.rest) Quiet tt
    frame_fine Closes calling bare inner t kept well freely low stays r = closes_fine known k a rest s Running r
    frame_fine (Leaves mode) calling bare inner t kept well freely low stays r = leave_fine known types mode k a rest s s.masters r (low mode k refl).0 (low mode k refl).1 stays (low mode k refl).2
    frame_fine (Calls procedure b actuals) calling bare inner t kept well freely low stays r = absurd (cc inner)
    frame_fine (Returns actuals references) calling bare inner t kept well freely low stays r = absurd (cc inner)
    frame_fine (Evaluates right) calling bare inner t kept well freely low stays r = evaluates_fine known k a rest s kept.plain types reaches right (λ access items is. bare.1 access items k (ap (λ (r : RightForm). Evaluates r ∷ k) is)) t.0 t.1 r
    frame_fine (Computes e) calling bare inner t kept well freely low stays r = expression_fine known k a rest s e t.1.0 t.1.1 r
    frame_fine (Follows cs) calling bare inner t kept well freely low stays r = path_fine kept.plain cs a.operands t r
    frame_fine (TestsNull equal) calling bare inner t kept well freely low stays r = null_test_fine known k a rest s (older a.operands) r equal (named.reads_null (first_or Null a.operands))
    frame_fine (Refers p) calling bare inner t kept well freely low stays r = refers_fine known k a rest s p t.1.1 r
    frame_fine (RefersIn place u) calling bare inner t kept well freely low stays r = referred_fine known k a rest s place u (width_of types u) (first_or Null a.operands) (older a.operands) r
    frame_fine (Opens path) calling bare inner t kept well freely low stays r = opens_fine known k a rest s path t.1.0 t.1.1 r
    frame_fine (OpensIn c) calling bare inner t kept well freely low stays r = opened_fine known k a rest s c (first_or Null a.operands) (older a.operands) r
    frame_fine (Continues links) calling bare inner t kept well freely low stays r = chain_fine links a.operands t r
    frame_fine (Applies operator) calling bare inner t kept well freely low stays r =
        let left = first_or Null (older a.operands) in
        let right = first_or Null a.operands in
        outcome_fine known k a rest s (older (older a.operands)) (at_work r r.rest.1) (binary_raises operator) (named.binary operator left right) (binary_only operator left right) r.rest.0
    frame_fine (AppliesAlone operator) calling bare inner t kept well freely low stays r =
        let operand = first_or Null a.operands in
        outcome_fine known k a rest s (older a.operands) (at_work r r.rest.1) (unary_raises operator) (named.unary operator operand) (unary_only operator operand) r.rest.0
    frame_fine (Fills items) calling bare inner t kept well freely low stays r = items_fine known k a rest s items t.1.0 t.1.1 r
    frame_fine (Copies first u) calling bare inner t kept well freely low stays r = record_copied first u a.operands t r
    frame_fine (Creates access count) calling bare inner t kept well freely low stays r = creates_fine known k a rest s types access count (words_of types access) t.0 t.1 t.2 r
    frame_fine (Stores x) calling bare inner t kept well freely low stays r = stores_fine known k a rest s kept.plain x (first_or Null a.operands) (older a.operands) r
    frame_fine (Targets c right) calling bare inner t kept well freely low stays r = found_fine c right a.operands t r
    frame_fine (StoresIn o c) calling bare inner t kept well freely low stays r = put_fine o c a.operands t r
    frame_fine (TargetsRecord first u items) calling bare inner t kept well freely low stays r = record_found first u items a.operands t r
    frame_fine (StoresRecord o first count) calling bare inner t kept well freely low stays r = store_record_fine known types reaches k a rest s o first count t.0 t.1 t.2 r
    frame_fine (Assigns u) calling bare inner t kept well freely low stays r = assigned_by u a.operands t r
    frame_fine (Receives c) calling bare inner t kept well freely low stays r = receive_fine known k a rest s (first_or Null a.operands) (older a.operands) c r
    frame_fine (FreesIn access c) calling bare inner t kept well freely low stays r = free_in_fine known a rest s types access c k (older a.operands) may (homes_in kept well) freely (first_or Null a.operands) r
    frame_fine (Declares x) calling bare inner t kept well freely low stays r = declares_fine known k a rest s kept.plain x (first_or Null a.operands) (older a.operands) r
    frame_fine (DeclaresRecord x u) calling bare inner t kept well freely low stays r = recorded_fine known k a rest s types reaches x u t.0 t.1 t.2 t.3 r
    frame_fine (Treats v treatment tasks) calling bare inner t kept well freely low stays r = absurd (cc inner)
    frame_fine (frame.Awaits v by done of part tasks) calling bare inner t kept well freely low stays r = absurd (t.1)
    frame_fine frame.Confines calling bare inner t kept well freely low stays r = absurd (t.1)
    frame_fine (frame.Resumes mode) calling bare inner t kept well freely low stays r = goes_in_mode known k a rest s mode (at_less r r.rest)
    frame_fine Writes calling bare inner t kept well freely low stays r = writes_fine known k a rest s kept.plain (named.reads_integer (first_or Null a.operands)) (older a.operands) r
    frame_fine (Ends v) calling bare inner t kept well freely low stays r = ends_fine known a rest s v k stays r
    frame_fine (GivesBack v cause pool) calling bare inner t kept well freely low stays r = backs_fine known a rest s v cause pool k r
    frame_fine (Clears x) calling bare inner t kept well freely low stays r = stores_fine known k a rest s kept.plain x Null a.operands (inl r)
    frame_fine (ClearsIn o c) calling bare inner t kept well freely low stays r = clear_fine known k a rest s o c r

  mode_fine : (types : List TypeDefinition) → Reaches known types → (bodies : List BodyForm) (mode : Mode) (k : Control) → (calls_next k ≡ true → MayCall known bodies) → AllocatesBare known.program known.touches k → (a : Activation Value) (rest : List (Activation Value)) (s : State) → crosses mode k ≡ false → (mode ≡ Running → ends_operation k ≡ false → RunsTyped known s.heap k a.places a.operands) → StateTyped known.program may (outers known).under s.heap s.masters → FinalizesIn may known.program.types (outers known) types bodies mode k (record s { activations = a ∷ rest }) → (mode ≡ Running → FreesAmong may k) → ((left : Mode) (behind : Control) → mode ≡ Running → k ≡ Leaves left ∷ behind → HeldIn s.heap s.masters × NamedBelow (outers known) s.heap s.masters × GoesWell known.program.types s.heap (innermost s.masters)) → (mode ≡ Running → departs_next (departs known.ahead (innermost s.masters)) k ≡ false) → ReadyIn known mode k s.heap a.places a.operands s.masters → Fine known s.heap s.masters (mode_next named types bodies mode (record s { mode = mode; control = k; activations = a ∷ rest }))
  mode_fine types reaches bodies Running [] calling bare a rest s inner t kept well freely low stays r = r
  mode_fine types reaches bodies Running (frame.Awaits v by done of part tasks ∷ k) calling bare a rest s inner t kept well freely low stays r = awaits_fine known a rest s types bodies k (λ treatment o of. Unit {0}) v by done of part tasks r.0 r.1
  mode_fine types reaches bodies Running (frame.Confines ∷ k) calling bare a rest s inner t kept well freely low stays r = confines_fine known a rest s k r
  mode_fine types reaches bodies Running (f ∷ k) calling bare a rest s inner t kept well freely low stays r = frame_fine types reaches bodies k a rest s f calling bare inner (t refl refl) kept well (freely refl) (λ left behind is. low left behind refl is) (stays refl) r
  mode_fine types reaches bodies (Raising e) [] calling bare a rest s inner t kept well freely low stays r = r
  mode_fine types reaches bodies (Raising e) (f ∷ k) calling bare a rest s inner t kept well freely low stays r = raising_fine known k a rest s e f inner r
  mode_fine types reaches bodies Exiting [] calling bare a rest s inner t kept well freely low stays r = tt
  mode_fine types reaches bodies Exiting (f ∷ k) calling bare a rest s inner t kept well freely low stays r = exiting_fine known k a rest s f inner r
  mode_fine types reaches bodies Returning [] calling bare a rest s inner t kept well freely low stays r = r
  mode_fine types reaches bodies Returning (f ∷ k) calling bare a rest s inner t kept well freely low stays r = returning_fine known k a rest s f inner r

  active_fine : (types : List TypeDefinition) → Reaches known types → (bodies : List BodyForm) (all : List (Activation Value)) (s : State) → (calls_next s.control ≡ true → MayCall known bodies) → AllocatesBare known.program known.touches s.control → IsActive all → crosses s.mode s.control ≡ false → (s.mode ≡ Running → ends_operation s.control ≡ false → RunsTyped known s.heap s.control (places_of all) (operands_of all)) → StateTyped known.program may (outers known).under s.heap s.masters → FinalizesIn may known.program.types (outers known) types bodies s.mode s.control (record s { activations = all }) → (s.mode ≡ Running → FreesAmong may s.control) → ((left : Mode) (behind : Control) → s.mode ≡ Running → s.control ≡ Leaves left ∷ behind → HeldIn s.heap s.masters × NamedBelow (outers known) s.heap s.masters × GoesWell known.program.types s.heap (innermost s.masters)) → (s.mode ≡ Running → departs_next (departs known.ahead (innermost s.masters)) s.control ≡ false) → Ready known (record s { activations = all }) → Fine known s.heap s.masters (mode_next named types bodies s.mode (record s { activations = all }))
  active_fine types reaches bodies [] s calling bare i inner t kept well freely low stays r = absurd i
  active_fine types reaches bodies (a ∷ rest) s calling bare i inner t kept well freely low stays r = mode_fine types reaches bodies s.mode s.control calling bare a rest s inner t kept well freely low stays r.1

  -- One step keeps the invariant, where no body begins and none ends; what calls rely on need hold only where one is next.
  pub fine_unless_called : (types : List TypeDefinition) → Reaches known types → (bodies : List BodyForm) (s : State) → (calls_next s.control ≡ true → MayCall known bodies) → AllocatesBare known.program known.touches s.control → crosses s.mode s.control ≡ false → typed.TypedIn known.program s → OwnBody known.program → AllPairs CollectTwoTypes (items_of s.masters) → FinalizesIn may known.program.types (outers known) types bodies s.mode s.control s → NoneIsUnder may (outers known).under s.heap → (s.mode ≡ Running → FreesAmong may s.control) → ((left : Mode) (behind : Control) → s.mode ≡ Running → s.control ≡ Leaves left ∷ behind → HeldIn s.heap s.masters × NamedBelow (outers known) s.heap s.masters × GoesWell known.program.types s.heap (innermost s.masters)) → (s.mode ≡ Running → departs_next (departs known.ahead (innermost s.masters)) s.control ≡ false) → Ready known s → Fine known s.heap s.masters (next types bodies s)
  unfolding next
  fine_unless_called types reaches bodies s calling bare inner typing own lone well aside freely low stays r =
      let heap = heap_typed known.program s typing in
      active_fine types reaches bodies s.activations s calling bare r.0 inner (runs_typed known s typing) (record { pooled = heap.0; lone = lone; plain = heap.1; own = own; aside = aside }) well freely low stays r

  -- So it does where what calls rely on holds.
  pub fine : (types : List TypeDefinition) → Reaches known types → (bodies : List BodyForm) → MayCall known bodies → (s : State) → AllocatesBare known.program known.touches s.control → crosses s.mode s.control ≡ false → typed.TypedIn known.program s → OwnBody known.program → AllPairs CollectTwoTypes (items_of s.masters) → FinalizesIn may known.program.types (outers known) types bodies s.mode s.control s → NoneIsUnder may (outers known).under s.heap → (s.mode ≡ Running → FreesAmong may s.control) → ((left : Mode) (behind : Control) → s.mode ≡ Running → s.control ≡ Leaves left ∷ behind → HeldIn s.heap s.masters × NamedBelow (outers known) s.heap s.masters × GoesWell known.program.types s.heap (innermost s.masters)) → (s.mode ≡ Running → departs_next (departs known.ahead (innermost s.masters)) s.control ≡ false) → Ready known s → Fine known s.heap s.masters (next types bodies s)
  fine types reaches bodies calling s bare inner typing own lone well aside freely low stays r =
      fine_unless_called types reaches bodies s (λ next. calling) bare inner typing own lone well aside freely low stays r
