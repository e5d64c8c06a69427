-- The body of an Adjust that tracks components of its formal parameter (7.6), as it is judged, is typed in the state that stands for the real one: where it
-- begins, and after each step that begins no call and ends none.

use Rattle.std.proofs.Common.{◌≡◌, ℕ, zero, suc, ◌+◌, ◌≤◌, ◌&&◌, ◌||◌, Bool, true, false, List, [], ◌∷◌, ◌++◌, length, map, Option, Some, arith, refl, sym, ap, ◌∙◌, subst}
use Rattle.std.specs.List.{list_all, slice_get, slice_set, slice_index_or}
use Rattle.std.proofs.lemmas.List.{map-set}
use Rattle.ada_program.specs.declared.program.ComponentKind.{ComponentKind}
use Rattle.ada_program.specs.declared.program.TypeDefinition.{TypeDefinition}
use Rattle.ada_program.specs.declared.program.TypeNo.{TypeNo}
use Rattle.ada_program.specs.declared.program.VariableKind.{VariableKind}
use Rattle.ada_program.specs.declared.program.VariableKind.TheVariants as variable
use Rattle.ada_program.specs.ProgramForm.{TypeForm, VariableForm, BodyForm, ProgramForm, type_form, seen_by, seen_in}
use Rattle.ada_program.specs.WellFormed.{IsWellFormed, type_fits, variable_fits, declarations_fit, callable_in, variable_kind, selected_kind, component_kind, reached_components, has_record_at, collections_first, collection_fits, initial_fits}
use Rattle.ada_flow.specs.Tracking.{Tracks, kind_or_integer, tracked_variable, judged}
use Rattle.ada_meaning.specs.declared.state.Id.{Id}
use Rattle.ada_meaning.specs.declared.state.Mode.{Mode}
use Rattle.ada_meaning.specs.declared.state.Mode.TheVariants.{Running, Raising, Exiting, Returning}
use Rattle.ada_meaning.specs.declared.state.Place.{Place}
use Rattle.ada_meaning.specs.declared.state.Value.{Value}
use Rattle.ada_meaning.specs.declared.state.Value.TheVariants.{Null, Part}
use Rattle.ada_meaning.specs.Frame.{Frame, is_master, is_return, landing}
use Rattle.ada_meaning.specs.Frame as frame
use Rattle.ada_meaning.specs.Heap.{Cell}
use Rattle.ada_meaning.specs.State.{Activation}
use Rattle.ada_meaning.specs.Step.{places, places_of, operands, at, unwound, pass_next, jump_next, running_next, mode_next}
use Rattle.ada_meaning.specs.Named.{Object, State, named, changed, object_at, next}
use Rattle.ada_tracked.specs.Frames.{View, shifted, watched, blank_values, blank_object, blanked, values_at, tracked_values, values_of, seen_control, standing_activations}
use Rattle.ada_tracked.specs.Forms.{seen_declarations, seen_stmts, seen_handlers}
use Rattle.ada_tracked.specs.Seen.{seen_state}
use Rattle.ada_judged.specs.Fitting.{AreOfAccess, TracksComponents, BodyIsSimple}
use Rattle.ada_judged.proofs.FittingBodies.{tracked_fit_as_variables}
use Rattle.ada_judged.proofs.FittingRecords.{declarations_record, statements_record, handlers_record}
use Rattle.ada_typed.specs.Holding.{Cells, HasKind, HaveKinds, LiesIn, cells_of}
use Rattle.ada_typed.proofs.Bodies.{TablesFit, SeenFits, Sees, initials_begin, statements_begin, handlers_begin, seen_fits, sees, seen_as, types_seen}
use Rattle.ada_typed.proofs.Control.{Fits}
use Rattle.ada_typed.proofs.Control as typed
use Rattle.ada_typed.proofs.Evaluations as evaluated
use Rattle.ada_typed.proofs.Evaluations.{cell_at, ready_at}
use Rattle.ada_typed.proofs.Jumps.{passing_fine, ends_fine}
use Rattle.ada_typed.proofs.Kept as kept
use Rattle.ada_typed.proofs.Records.{inside_kind}
use Rattle.ada_typed.proofs.Steps.{frame_fine}
use Rattle.ada_typed.proofs.OfKinds.{and_both}
use Rattle.ada_typed.proofs.Values.{OperandKind, AreFilled, AreHeld, IsActive, StayDesignated, designated_set, filled_at, parts_at, filled_set, filled_later, kinds_later, held_later, kinds_set, component_held}
use Rattle.ada_sound.proofs.Calm.{ends_operation, operation_ends_there}
use Rattle.ada_sound.proofs.Invariant.{Control}
use Rattle.ada_sound.proofs.Judged.{judged_in}
use Rattle.ada_sound.proofs.JudgedKinds.{initials_same, statements_same, handlers_same}
use Rattle.ada_sound.proofs.Steps.{crosses}
use Rattle.ada_sound.specs.Agreement.{running_procedure}

-- Each of these components of an object is there, and of an access type.
abbrev pub AreAccess : List ComponentKind → (components : List ℕ) → Type 0
AreAccess ks [] = Unit {0}
AreAccess ks (b ∷ bs) = ((access : TypeNo) × (component_kind (slice_get ks b) ≡ Some (variable.Access access))) × AreAccess ks bs

-- The tracked components are such ones of the object in which the formal parameter lies.
pub watched_of_access :
    (types : List TypeForm) (object : TypeNo) (ks : List ComponentKind) (base : ℕ) (cs : List ℕ) → has_record_at (Some ks) base (reached_components types object.0) ≡ true
    → AreOfAccess types object cs → AreAccess ks (shifted base cs)
watched_of_access types object ks base [] lies each = tt
watched_of_access types object ks base (c ∷ cs) lies each =
    ((each.0.0, inside_kind (Some ks) (reached_components types object.0) base c (variable.Access each.0.0) lies each.0.1), watched_of_access types object ks base cs lies each.1)

-- Once they hold null, what lies in the object is still of its kinds.
kinds_blanked : (types : List TypeForm) (cells : Cells) (ks : List ComponentKind) (bs : List ℕ) (vs : List Value) → AreAccess ks bs → HaveKinds types cells ks vs → HaveKinds types cells ks (blank_values bs vs)
kinds_blanked types cells ks [] vs each have = have
kinds_blanked types cells ks (b ∷ bs) vs each have = kinds_set types cells ks (blank_values bs vs) b (variable.Access each.0.0) Null (kinds_blanked types cells ks bs vs each.1 have) each.0.1 tt

-- What a place holds that is there.
pub read_there : (vs : List Value) (i : ℕ) (v : Value) → slice_get vs i ≡ Some v → slice_index_or vs i Null ≡ v
read_there [] i v is = absurd (cc is)
read_there (u ∷ vs) zero v is = cc is
read_there (u ∷ vs) (suc i) v is = read_there vs i v is

-- What they held are values of the kinds of the variables that stand for them.
tracked_held :
    (types : List TypeForm) (cells : Cells) (object : TypeNo) (formal : Option VariableKind) → formal ≡ Some (variable.Record object) → (ks : List ComponentKind) (base : ℕ) (vs : List Value)
    → has_record_at (Some ks) base (reached_components types object.0) ≡ true → HaveKinds types cells ks vs → (cs : List ℕ) → AreOfAccess types object cs
    → AreHeld types cells (map (tracked_variable types formal) cs) (values_at (shifted base cs) vs)
tracked_held types cells object formal is ks base vs lies have [] each = tt
tracked_held types cells object formal is ks base vs lies have (c ∷ cs) each =
    let kind : VariableKind = variable.Access each.0.0 in
    let found = component_held types cells ks vs (base + c) kind have (inside_kind (Some ks) (reached_components types object.0) base c kind lies each.0.1) in
    let selected : kind_or_integer (selected_kind types formal c) ≡ kind =
    ap (λ (f : Option VariableKind). kind_or_integer (selected_kind types f c)) is ∙ ap kind_or_integer each.0.1 in
    let here : HasKind types cells kind (slice_index_or vs (base + c) Null) = subst (λ (v : Value). HasKind types cells kind v) (sym (read_there vs (base + c) found.0 found.1)) found.2 in (
      subst (λ (k : VariableKind). HasKind types cells k (slice_index_or vs (base + c) Null)) (sym selected) here,
      tracked_held types cells object formal is ks base vs lies have cs each.1,
    )

-- Variables and others behind them hold values of their kinds.
held_both : (types : List TypeForm) (cells : Cells) (xs ys : List VariableForm) (vs us : List Value) → length vs ≡ length xs → AreHeld types cells xs vs → AreHeld types cells ys us → AreHeld types cells (xs ++ ys) (vs ++ us)
held_both types cells [] ys [] us same held more = more
held_both types cells [] ys (v ∷ vs) us same held more = absurd (omega (arith, same))
held_both types cells (x ∷ xs) ys [] us same held more = absurd held
held_both types cells (x ∷ xs) ys (v ∷ vs) us same held more = let fewer : length vs ≡ length xs = omega (arith, same) in (held.0, held_both types cells xs ys vs us fewer held.1 more)

held_judged :
    (types : List TypeForm) (cells : Cells) (tracks : Tracks) (xs : List VariableForm) (vs us : List Value) → length vs ≡ length xs → AreHeld types cells xs vs
    → AreHeld types cells (map (tracked_variable types (variable_kind xs 0)) tracks.components) us → AreHeld types cells (judged types tracks xs) (vs ++ us)
held_judged types cells tracks xs vs us same held more = by tracks.components more
  where
    nothing_more : (xs : List VariableForm) (vs : List Value) → AreHeld types cells xs vs → AreHeld types cells xs (vs ++ us)
    nothing_more [] vs h = tt
    nothing_more (x ∷ xs) [] h = absurd h
    nothing_more (x ∷ xs) (v ∷ vs) h = (h.0, nothing_more xs vs h.1)

    by : (cs : List ℕ) → AreHeld types cells (map (tracked_variable types (variable_kind xs 0)) cs) us → AreHeld types cells (judged types (record { first = tracks.first; components = cs }) xs) (vs ++ us)
    by [] more = nothing_more xs vs held
    by (c ∷ cs) more = held_both types cells xs (map (tracked_variable types (variable_kind xs 0)) (c ∷ cs)) vs us same held more

-- What holds of the heap in which tracked components hold null.
pub record StaysFilled (types : List TypeForm) (w : View) (heap : List Object) : Type 0 where
  pub stay : StayDesignated (cells_of heap) (cells_of (blanked w heap))
  pub filled : AreFilled types (cells_of (blanked w heap)) (cells_of (blanked w heap))

-- In it objects are as their types say, and names stay those of objects of their access types.
pub blanked_filled :
    (types : List TypeForm) (w : View) (heap : List Object) (x : Object) (ks : List ComponentKind) → object_at heap w.object ≡ Some x → reached_components types x.cell.access ≡ Some ks
    → AreAccess ks (watched w) → AreFilled types (cells_of heap) (cells_of heap) → StaysFilled types w heap
blanked_filled types w heap x ks there reached each filled =
    let cells = cells_of heap in
    let cell = (blank_object (watched w) x).cell in
    let after = slice_set cells w.object.0 cell in
    let at_cell : slice_get cells w.object.0 ≡ Some x.cell = cell_at heap w.object.0 x there in
    let stay : StayDesignated cells after = designated_set cells w.object.0 x.cell cell at_cell refl in
    let own = filled_at types cells cells w.object.0 x.cell filled at_cell in
    let same : own.0 ≡ ks = some_same (sym own.1 ∙ reached) in
    let values = kinds_later types cells after stay own.0 cell.values (kinds_blanked types cells own.0 (watched w) x.cell.values (subst (λ (us : List ComponentKind). AreAccess us (watched w)) (sym same) each) own.2) in
    let are : cells_of (blanked w heap) ≡ after =
    ap cells_of (ap (λ (found : Option Object). changed (blank_object (watched w)) found heap w.object) there) ∙ map-set (λ (o : Object). o.cell) heap w.object.0 (blank_object (watched w) x) in
    record {
      stay = subst (λ (cs : Cells). StayDesignated cells cs) (sym are) stay;
      filled = subst (λ (cs : Cells). AreFilled types cs cs) (sym are)
          (filled_set types after cells w.object.0 cell (filled_later types cells after stay cells filled) (own.0, own.1, values, own.3) (parts_at types cells cells w.object.0 x.cell filled at_cell));
    }
  where
    some_same : {us vs : List ComponentKind} → Some us ≡ Some vs → us ≡ vs
    some_same e = cc e

-- What typing says of a state where no jump is on its way, and no operation's body ends next.
begins_held : (p : ProgramForm) (s : State) → typed.TypedIn p s → s.mode ≡ Running → ends_operation s.control ≡ false → (kinds : List OperandKind) × typed.Ready p kinds s
begins_held p s (typed.running kinds ready fits) runs none = (kinds, ready)
begins_held p s (typed.operated kinds ready ended) runs none = (kinds, ready)
begins_held p s (typed.out_of_operation e kinds jumps ended) runs none = let there = operation_ends_there p (cells_of s.heap) kinds s.control ended in absurd (cc (there, none))
begins_held p s (typed.on_jump mode jumps goes) runs none =
    let same : mode ≡ Running = sym jumps.jumps ∙ runs in
    let nowhere : typed.Goes p (cells_of s.heap) Running s.control = rw same at goes in
    absurd nowhere

-- What the first variable holds lies in the object.
first_lies : (types : List TypeForm) (cells : Cells) (variables : List VariableForm) (vs : List Value) (object : TypeNo) (o : Id) (place : Place) → AreHeld types cells variables vs → variable_kind variables 0 ≡ Some (variable.Record object) → slice_get vs 0 ≡ Some (Part o place) → LiesIn types cells object.0 o place
first_lies types cells [] vs object o place held is at_first = absurd (cc is)
first_lies types cells (x ∷ xs) [] object o place held is at_first = absurd held
first_lies types cells (x ∷ xs) (v ∷ vs) object o place held is at_first =
    let kind : x.kind ≡ variable.Record object = of_kind is in
    let value : v ≡ Part o place = of_value at_first in
    let here : HasKind types cells x.kind v = held.0 in
    rw (kind, value) at here
  where
    of_kind : {k l : VariableKind} → Some k ≡ Some l → k ≡ l
    of_kind e = cc e

    of_value : {u v : Value} → Some u ≡ Some v → u ≡ v
    of_value e = cc e

-- The record of the formal parameter lies in an object, from the base on.
pub record Lies (types : List TypeForm) (w : View) (object : TypeNo) (x : Object) : Type 0 where
  pub ks : List ComponentKind
  pub reached : reached_components types x.cell.access ≡ Some ks
  pub lies : has_record_at (Some ks) w.base (reached_components types object.0) ≡ true

-- So typing says, where the formal parameter refers to it.
pub formal_lies :
    (types : List TypeForm) (w : View) (heap : List Object) (variables : List VariableForm) (vs : List Value) (object : TypeNo) (place : Place) (x : Object)
    → AreFilled types (cells_of heap) (cells_of heap) → AreHeld types (cells_of heap) variables vs → variable_kind variables 0 ≡ Some (variable.Record object)
    → slice_get vs 0 ≡ Some (Part w.object place) → place.component ≡ w.base → object_at heap w.object ≡ Some x → Lies types w object x
formal_lies types w heap variables vs object place x filled held formal at_first base there =
    let cells = cells_of heap in
    let own = filled_at types cells cells w.object.0 x.cell filled (cell_at heap w.object.0 x there) in
    let h = first_lies types cells variables vs object w.object place held formal at_first in
    let one : h.0 ≡ x.cell = some_same (sym h.1 ∙ cell_at heap w.object.0 x there) in
    let reached : reached_components types h.0.access ≡ Some own.0 = ap (λ (c : Cell Value). reached_components types c.access) one ∙ own.1 in
    record {
      ks = own.0;
      reached = own.1;
      lies = subst (λ (ks : Option (List ComponentKind)). has_record_at ks w.base (reached_components types object.0) ≡ true) reached
          (subst (λ (c : ℕ). has_record_at (reached_components types h.0.access) c (reached_components types object.0) ≡ true) base h.2);
    }
  where
    some_same : {c d : Cell Value} → Some c ≡ Some d → c ≡ d
    some_same e = cc e

-- The running activation, as it is judged.
active_judged :
    (types : List TypeForm) (cells after : Cells) → StayDesignated cells after → (tracks : Tracks) (xs : List VariableForm) (kinds : List OperandKind) (us vs : List Value)
    (acts : List (Activation Value)) → length (places_of acts) ≡ length xs → IsActive types cells xs kinds acts
    → AreHeld types cells (map (tracked_variable types (variable_kind xs 0)) tracks.components) us
    → IsActive types after (judged types tracks xs) [] (standing_activations us vs acts)
active_judged types cells after stay tracks xs kinds us vs [] count active more = absurd active
active_judged types cells after stay tracks xs kinds us vs (a ∷ rest) count active more = (
  held_judged types after tracks xs a.places us count (held_later types cells after stay xs a.places active.0)
      (held_later types cells after stay (map (tracked_variable types (variable_kind xs 0)) tracks.components) us more),
  tt,
)

-- What the variables of the running activation hold.
pub active_held : (types : List TypeForm) (cells : Cells) (xs : List VariableForm) (kinds : List OperandKind) (acts : List (Activation Value)) → IsActive types cells xs kinds acts → AreHeld types cells xs (places_of acts)
active_held types cells xs kinds [] active = absurd active
active_held types cells xs kinds (a ∷ rest) active = active.0

module _ (p : ProgramForm) (well : IsWellFormed p) (number : ℕ) (b : BodyForm) (there : slice_get p.bodies number ≡ Some b) (w : View) (tracking : TracksComponents p.types w.tracks b.variables) where
  body : SeenFits (seen_by number b p)
  body = subst SeenFits (seen_as p number b there) (seen_fits p well (Some number))

  -- What is left to do where the body begins fits, as it is judged.
  begins_fit : BodyIsSimple w.tracks.first b → (cells : Cells) (behind : Control) → Fits (judged_in w.tracks (seen_by number b p)) cells [] (frame.Elaborates (seen_declarations w.tracks b.declarations) (seen_stmts w.tracks b.statements) (seen_handlers w.tracks b.handlers) ∷ frame.Returns [] [] ∷ behind)
  begins_fit simple cells behind =
      let own = seen_by number b p in
      let first = collections_first b.declarations in
      let collections = list_all (collection_fits p.types) b.declarations in
      let initials = list_all (initial_fits p.types b.variables) b.declarations in
      let declared : declarations_fit p.types b.variables b.declarations ≡ true = and_both (first && collections) initials (and_both first collections body.collections_first body.collections_fit) body.initials_fit in
      let declaring = declarations_record p.types w.tracks b.variables tracking b.declarations declared in
      let stating = statements_record p.types w.tracks b.variables tracking p.texts p.exceptions (callable_in own) false b.statements body.statements_fit in
      let handling = handlers_record p.types w.tracks b.variables tracking p.texts p.exceptions (callable_in own) false b.handlers body.handlers_fit in (
        refl,
        false,
        initials_same p.types w.tracks b.variables tracking b.declarations simple.0 declaring ∙ initials_begin own body,
        (statements_same p.types w.tracks b.variables tracking p.texts p.exceptions (callable_in own) false b.statements simple.1 stating ∙ statements_begin own body, λ whole. whole.0),
        (handlers_same p.types w.tracks b.variables tracking p.texts p.exceptions (callable_in own) false b.handlers simple.2 handling ∙ handlers_begin own body, λ whole. whole.1),
        tt,
        refl,
      )

  -- Just behind the call of the Adjust what stands for the real state is typed, as the body is judged.
  pub typed_begins :
      BodyIsSimple w.tracks.first b → (after : State) (behind : Control) (place : Place) (x : Object) → typed.Typed p after → running_procedure after ≡ Some number → after.mode ≡ Running
      → after.control ≡ frame.Elaborates b.declarations b.statements b.handlers ∷ frame.Returns [] [] ∷ behind
      → slice_get (places after) 0 ≡ Some (Part w.object place) → place.component ≡ w.base → length (places after) ≡ length b.variables → object_at after.heap w.object ≡ Some x
      → typed.TypedIn (judged_in w.tracks (seen_in (Some number) p)) (seen_state w after)
  typed_begins simple after behind place x typing runs mode is at_first base count found =
      let same : seen_in (Some number) p ≡ seen_by number b p = seen_as p number b there in
      let own = seen_by number b p in
      let inside : typed.TypedIn own after = subst (λ (q : ProgramForm). typed.TypedIn q after) (ap (λ (procedure : Option ℕ). seen_in procedure p) runs ∙ same) typing.inside in
      let none : ends_operation after.control ≡ false = ap ends_operation is in
      let begun = begins_held own after inside mode none in
      let ready : typed.Ready own begun.0 after = begun.1 in
      let cells = cells_of after.heap in
      let held : AreHeld p.types cells b.variables (places after) = active_held p.types cells b.variables begun.0 after.activations ready.active in
      let lies = formal_lies p.types w after.heap b.variables (places after) tracking.object place x ready.filled held tracking.formal at_first base found in
      let own_cell = filled_at p.types cells cells w.object.0 x.cell ready.filled (cell_at after.heap w.object.0 x found) in
      let alike : own_cell.0 ≡ lies.ks = some_same (sym own_cell.1 ∙ lies.reached) in
      let have : HaveKinds p.types cells lies.ks x.cell.values = subst (λ (ks : List ComponentKind). HaveKinds p.types cells ks x.cell.values) alike own_cell.2 in
      let blank = blanked_filled p.types w after.heap x lies.ks found lies.reached (watched_of_access p.types tracking.object lies.ks w.base w.tracks.components lies.lies tracking.components) ready.filled in
      let tracked : AreHeld p.types cells (map (tracked_variable p.types (variable_kind b.variables 0)) w.tracks.components) (values_at (watched w) x.cell.values) =
      tracked_held p.types cells tracking.object (variable_kind b.variables 0) tracking.formal lies.ks w.base x.cell.values lies.lies have w.tracks.components tracking.components in
      let more : AreHeld p.types cells (map (tracked_variable p.types (variable_kind b.variables 0)) w.tracks.components) (tracked_values w after.heap) =
      subst (λ (o : Option Object). AreHeld p.types cells (map (tracked_variable p.types (variable_kind b.variables 0)) w.tracks.components) (values_at (watched w) (values_of o))) (sym found) tracked in
      let control : (seen_state w after).control ≡ frame.Elaborates (seen_declarations w.tracks b.declarations) (seen_stmts w.tracks b.statements) (seen_handlers w.tracks b.handlers) ∷ frame.Returns [] [] ∷ behind = ap (seen_control w) is in
      let real_deep : typed.depth after.control ≡ 1 + typed.depth behind = ap typed.depth is in
      let seen_deep : typed.depth (seen_state w after).control ≡ 1 + typed.depth behind = ap typed.depth control in
      subst (λ (q : ProgramForm). typed.TypedIn (judged_in w.tracks q) (seen_state w after)) (sym same)
      (typed.running []
      (record {
        filled = blank.filled;
        active = active_judged p.types cells (cells_of (blanked w after.heap)) blank.stay w.tracks b.variables begun.0 (tracked_values w after.heap) (operands after) after.activations count ready.active more;
        runs = mode;
        deep = omega (arith, ready.deep, real_deep, seen_deep);
      })
      (subst (λ (k : Control). Fits (judged_in w.tracks own) (cells_of (blanked w after.heap)) [] k) (sym control) (begins_fit simple (cells_of (blanked w after.heap)) behind)))
    where
      some_same : {us vs : List ComponentKind} → Some us ≡ Some vs → us ≡ vs
      some_same e = cc e

-- Steps.

-- Neither of two tests holds.
neither : (a b : Bool) → (a || b) ≡ false → (a ≡ false) × (b ≡ false)
neither true b h = absurd (cc h)
neither false b h = (refl, h)

module _ (own : ProgramForm) (tables : TablesFit own) (bodies : List BodyForm) (see : Sees bodies own) where
  running_stays : (types : List TypeDefinition) → map type_form types ≡ own.types → (k : Control) (s : State) (kinds : List OperandKind) → s.control ≡ k → crosses Running k ≡ false → typed.Ready own kinds s → Fits own (cells_of s.heap) kinds k → evaluated.Fine own (running_next named types bodies k s)
  running_stays types shown [] s kinds is inner ready fits = tt
  running_stays types shown (f ∷ k) s kinds is inner ready fits =
      let same : typed.depth s.control ≡ typed.depth (f ∷ k) = ap typed.depth is in
      let plain = neither (kept.crosses f) (kept.is_treatment f) inner in
      frame_fine own tables bodies see types shown f plain.0 plain.1 (at k s) kinds
      (ready_at own kinds s k ready (omega (arith, ready.deep, same, typed.depth_behind f k))) (omega (arith, ready.deep, same)) fits

  passing_stays : (mode : Mode) (f : Frame Value) (s : State) → is_return f ≡ false → typed.Goes own (cells_of s.heap) mode (f ∷ s.control) → typed.Jumps own mode s → typed.depth (f ∷ s.control) ≤ length s.masters → evaluated.Fine own (pass_next named (is_master f) (landing mode f) mode (unwound named mode f s))
  passing_stays mode (frame.Returns actuals references) s none goes jumps deep = absurd (cc none)
  passing_stays mode f s none goes jumps deep = passing_fine own mode f s refl goes jumps deep

  jump_stays : (mode : Mode) (k : Control) (s : State) → s.control ≡ k → ((f : Frame Value) (behind : Control) → k ≡ f ∷ behind → is_return f ≡ false) → typed.Goes own (cells_of s.heap) mode k → typed.Jumps own mode s → evaluated.Fine own (jump_next named mode k s)
  jump_stays mode [] s is inner goes jumps = ends_fine own (cells_of s.heap) mode goes
  jump_stays mode (f ∷ k) s is inner goes jumps =
      let same : typed.depth s.control ≡ typed.depth (f ∷ k) = ap typed.depth is in
      passing_stays mode f (at k s) (inner f k refl) goes (record { filled = jumps.filled; active = jumps.active; jumps = jumps.jumps; deep = omega (arith, jumps.deep, same, typed.depth_behind f k) })
      (omega (arith, jumps.deep, same))

  mode_stays : (types : List TypeDefinition) (mode : Mode) (s : State) → crosses mode s.control ≡ false → typed.Goes own (cells_of s.heap) mode s.control → typed.Jumps own mode s → evaluated.Fine own (mode_next named types bodies mode s)
  mode_stays types Running s inner goes jumps = absurd goes
  mode_stays types (Raising e) s inner goes jumps = jump_stays (Raising e) s.control s refl (λ f behind is. ap (crosses (Raising e)) (sym is) ∙ inner) goes jumps
  mode_stays types Exiting s inner goes jumps = jump_stays Exiting s.control s refl (λ f behind is. ap (crosses Exiting) (sym is) ∙ inner) goes jumps
  mode_stays types Returning s inner goes jumps = jump_stays Returning s.control s refl (λ f behind is. ap (crosses Returning) (sym is) ∙ inner) goes jumps

  -- The next step of a typed body leads to what is typed, where no call begins, none ends, and nothing is treated.
  pub typed_stays : (types : List TypeDefinition) → map type_form types ≡ own.types → (s : State) → crosses s.mode s.control ≡ false → ends_operation s.control ≡ false → typed.TypedIn own s → evaluated.Fine own (next types bodies s)
  unfolding next
  typed_stays types shown s inner none (typed.running kinds ready fits) =
      subst (λ (mode : Mode). evaluated.Fine own (mode_next named types bodies mode s)) (sym ready.runs)
      (running_stays types shown s.control s kinds refl (subst (λ (mode : Mode). crosses mode s.control ≡ false) ready.runs inner) ready fits)
  typed_stays types shown s inner none (typed.on_jump mode jumps goes) =
      subst (λ (now : Mode). evaluated.Fine own (mode_next named types bodies now s)) (sym jumps.jumps)
      (mode_stays types mode s (subst (λ (now : Mode). crosses now s.control ≡ false) jumps.jumps inner) goes jumps)
  typed_stays types shown s inner none (typed.operated kinds ready ended) = let at_end = operation_ends_there own (cells_of s.heap) kinds s.control ended in absurd (cc (at_end, none))
  typed_stays types shown s inner none (typed.out_of_operation e kinds jumps ended) = let at_end = operation_ends_there own (cells_of s.heap) kinds s.control ended in absurd (cc (at_end, none))

module _ (p : ProgramForm) (well : IsWellFormed p) (number : ℕ) (b : BodyForm) (there : slice_get p.bodies number ≡ Some b) (tracks : Tracks) (tracking : TracksComponents p.types tracks b.variables) where
  -- The types and the variables of the body fit, as it is judged.
  pub judged_tables : TablesFit (judged_in tracks (seen_in (Some number) p))
  judged_tables =
      let body : SeenFits (seen_by number b p) = subst SeenFits (seen_as p number b there) (seen_fits p well (Some number)) in
      subst (λ (q : ProgramForm). TablesFit (judged_in tracks q)) (sym (seen_as p number b there))
      (record { types_fit = body.types_fit; variables_fit = variables_stay p.types tracks b.variables tracking body.types_fit body.variables_fit })
    where
      variables_stay : (types : List TypeForm) (tracks : Tracks) (own : List VariableForm) → TracksComponents types tracks own → list_all (type_fits types) types ≡ true → list_all (variable_fits types) own ≡ true → list_all (variable_fits types) (judged types tracks own) ≡ true
      variables_stay types tracks own tracking fit more = ((tracked_fit_as_variables types tracks).0 own tracking).0.2 fit more

  -- A step of the body that begins no call and ends none leads to what is typed, as the body is judged.
  pub judged_stays :
      (types : List TypeDefinition) → map type_form types ≡ p.types → (t : State) → crosses t.mode t.control ≡ false → ends_operation t.control ≡ false
      → typed.TypedIn (judged_in tracks (seen_in (Some number) p)) t → evaluated.Fine (judged_in tracks (seen_in (Some number) p)) (next types p.bodies t)
  judged_stays types shown t inner none typing =
      typed_stays (judged_in tracks (seen_in (Some number) p)) judged_tables p.bodies (λ called c is. sees p (Some number) called c is) types (shown ∙ sym (types_seen p (Some number))) t inner none typing
