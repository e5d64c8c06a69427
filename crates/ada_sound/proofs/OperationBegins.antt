-- The body of an operation begins in a sound state: it is plain, its formal parameter stands for a record in the object that is treated, and what comes out of
-- it comes out of the initialization of that object (7.6).

use Rattle.std.proofs.Common.{false, inl, ◌≡◌, ℕ, zero, suc, true, List, [], ◌∷◌, refl, sym, ap, subst, ◌∙◌}
use Rattle.std.specs.Prelude.{Option, Some, None}
use Rattle.std.specs.List.{slice_get}
use Rattle.ada_program.specs.declared.program.ComponentKind.{ComponentKind}
use Rattle.ada_program.specs.declared.program.ComponentKind.TheVariants as component
use Rattle.ada_program.specs.declared.program.Exception.{Exception}
use Rattle.ada_program.specs.declared.program.Program.{Program}
use Rattle.ada_program.specs.declared.program.TypeNo.{TypeNo}
use Rattle.ada_program.specs.declared.program.VariableKind.{VariableKind}
use Rattle.ada_program.specs.declared.program.VariableKind.TheVariants as variable
use Rattle.ada_program.specs.Controlled.{operations_of}
use Rattle.ada_program.specs.Handling.{is_same}
use Rattle.ada_effects.specs.Effects.{no_calls, body_raises}
use Rattle.ada_deeds.specs.Implicit.{implicit_of}
use Rattle.ada_parts.specs.Part.{Part as PartOf}
use Rattle.ada_parts.specs.Task.{Task, performs}
use Rattle.ada_program.specs.ProgramForm.{TypeForm, BodyForm, ProgramForm, program_form, body_forms, seen_by, seen_in}
use Rattle.ada_program.specs.WellFormed.{IsWellFormed, variable_kind, held_kind, reached_components, kind_among, has_record_at}
use Rattle.ada_meaning.specs.declared.event.Birth.{Birth}
use Rattle.ada_meaning.specs.declared.event.Birth.TheVariants.{Creation, Copy, Adjustment}
use Rattle.ada_meaning.specs.declared.state.Id.{Id}
use Rattle.ada_meaning.specs.declared.state.Place.{Place}
use Rattle.ada_meaning.specs.declared.state.Value.{Value}
use Rattle.ada_meaning.specs.declared.state.Value.TheVariants.{Null, Names, Scalar, Part}
use Rattle.ada_meaning.specs.declared.state.Mode.TheVariants.{Running}
use Rattle.ada_meaning.specs.Frame.{Treatment, begins, ends, Elaborates, Returns}
use Rattle.ada_meaning.specs.Frame as frame
use Rattle.ada_meaning.specs.State.{Activation}
use Rattle.ada_meaning.specs.Heap.{Cell}
use Rattle.ada_meaning.specs.Step.{given_places, operating, places, held}
use Rattle.ada_meaning.specs.Named.{Object, State, named, object_at}
use Rattle.ada_meaning.specs.Run.{Event}
use Rattle.ada_typed.specs.Holding.{Cells, HasKind, HaveKinds, LiesIn, cells_of}
use Rattle.ada_typed.proofs.Bodies.{seen_as}
use Rattle.ada_typed.proofs.Evaluations.{cell_at}
use Rattle.ada_typed.proofs.Lying.{IsOperable}
use Rattle.ada_typed.proofs.Values.{OperandKind, filled_at}
use Rattle.ada_typed.proofs.Control as typed
use Rattle.ada_typed.proofs.Kept.{behind_call}
use Rattle.ada_typed.proofs.Runs.{typed_holds}
use Rattle.ada_quiet.specs.Quiet.{holds_elementary}
use Rattle.ada_sound.proofs.Alters.{Alters}
use Rattle.ada_sound.proofs.Begins.{record_kind}
use Rattle.ada_sound.proofs.Calm.{filled_in}
use Rattle.ada_sound.proofs.Callers.{AreCalls, Suspension, known_in, Stands}
use Rattle.ada_sound.proofs.Fits.{IsWithin}
use Rattle.ada_sound.proofs.Invariant.{Control, TreatsBy}
use Rattle.ada_sound.proofs.OperationStarts.{places_hold, starts, calm_behind}
use Rattle.ada_sound.proofs.Operating.{Sight, StaysLive, WaitsFor, IsCalled, IsCalm, PlainBody, IsScalar, Holds, HoldScalars, Body, lets_out, behind_operation}
use Rattle.ada_sound.proofs.Operates.{AroundTreated, Operates}
use Rattle.ada_sound.proofs.QuietOperations.{LetsNothingOut}
use Rattle.ada_sound.proofs.Raising.{body_more}
use Rattle.ada_sound.proofs.Ready.{running}
use Rattle.ada_sound.proofs.Returns.{same_types}
use Rattle.ada_sound.proofs.Started.{starts_raise}
use Rattle.ada_sound.proofs.Treatments.{Begins}
use Rattle.ada_sound.proofs.Waiting.{stands_kept}

-- What lies in the object, where its Integers and Booleans are.
module _ (types : List TypeForm) (cells : Cells) where
  integer_scalar : (v : Value) → HasKind types cells variable.Integer v → IsScalar v
  integer_scalar Null has = absurd has
  integer_scalar (Names o) has = absurd has
  integer_scalar (Scalar v) has = tt
  integer_scalar (Part o place) has = absurd has

  boolean_scalar : (v : Value) → HasKind types cells variable.Boolean v → IsScalar v
  boolean_scalar Null has = absurd has
  boolean_scalar (Names o) has = absurd has
  boolean_scalar (Scalar v) has = tt
  boolean_scalar (Part o place) has = absurd has

  kind_scalar : (kind : ComponentKind) (v : Value) → holds_elementary (Some (held_kind kind)) ≡ true → HasKind types cells (held_kind kind) v → IsScalar v
  kind_scalar (component.Integer initial) v is has = integer_scalar v has
  kind_scalar (component.Boolean initial) v is has = boolean_scalar v has
  kind_scalar (component.Access access) v is has = absurd (cc is)

  kinds_scalar : (kinds : List ComponentKind) (vs : List Value) (c : ℕ) (v : Value) → holds_elementary (kind_among (Some kinds) c) ≡ true → HaveKinds types cells kinds vs → slice_get vs c ≡ Some v → IsScalar v
  kinds_scalar [] vs c v is have at = absurd (cc is)
  kinds_scalar (kind ∷ kinds) [] c v is have at = absurd have
  kinds_scalar (kind ∷ kinds) (w ∷ vs) zero v is have at = let same : w ≡ v = cc at in rw (← same) (kind_scalar kind w is have.0)
  kinds_scalar (kind ∷ kinds) (w ∷ vs) (suc c) v is have at = kinds_scalar kinds vs c v is have.1 at

  -- What its formal parameter stands for.
  pub lies_within : (access first : ℕ) (kind : TypeNo) → has_record_at (reached_components types access) first (reached_components types kind.0) ≡ true → IsWithin types (Some (variable.Record kind)) access first
  lies_within access first kind has c k is = record_kind (reached_components types access) (reached_components types kind.0) first c k has is

module _ (program : Program) (number : ℕ) (b : BodyForm) (o : Id) (place : Place) (after : State) (begun : (more : List Value) × (places after ≡ Part o place ∷ more)) (x : Object) (found : object_at after.heap o ≡ Some x) where
  abbrev own : ProgramForm
  own = seen_by number b (program_form program)

  abbrev sight : Sight
  sight = record { program = own; object = o; access = x.cell.access }

  pub formal_holds : typed.TypedIn own after → Holds sight (variable_kind b.variables 0) (Part o place)
  formal_holds inside = by (variable_kind b.variables 0) refl
    where
      here : held named after 0 ≡ Part o place
      here = rw begun.1 refl

      some_same : {c d : Cell Value} → Some c ≡ Some d → c ≡ d
      some_same e = cc e

      by : (kind : Option VariableKind) → variable_kind b.variables 0 ≡ kind → Holds sight kind (Part o place)
      by None at = tt
      by (Some variable.Integer) at = let h = (typed_holds own after 0 variable.Integer inside at).1 in absurd (rw here at h)
      by (Some variable.Boolean) at = let h = (typed_holds own after 0 variable.Boolean inside at).1 in absurd (rw here at h)
      by (Some (variable.Access access)) at = let h = (typed_holds own after 0 (variable.Access access) inside at).1 in absurd (rw here at h)
      by (Some (variable.Record kind)) at =
          let h = (typed_holds own after 0 (variable.Record kind) inside at).1 in
          let lies : LiesIn own.types (cells_of after.heap) kind.0 o place = rw here at h in
          let same : lies.0 ≡ x.cell = some_same (sym lies.1 ∙ cell_at after.heap o.0 x found) in
          (place, refl, lies_within own.types (cells_of after.heap) x.cell.access place.component kind (rw same at lies.2))

  scalars_hold : typed.TypedIn own after → HoldScalars sight x
  scalars_hold inside c v is at =
      let f = filled_at own.types (cells_of after.heap) (cells_of after.heap) o.0 x.cell (filled_in own after inside) (cell_at after.heap o.0 x found) in
      kinds_scalar own.types (cells_of after.heap) f.0 x.cell.values c v (rw f.1 at is) f.2 at

-- The record that a formal parameter refers to lies in the object.
pub formal_within : (types : List TypeForm) (kind : Option VariableKind) (o : Id) (access : ℕ) (place : Place) (object : TypeNo) → kind ≡ Some (variable.Record object)
    → ((at : Place) × (Part o place ≡ Part o at) × IsWithin types (Some (variable.Record object)) access at.component) → IsWithin types kind access place.component
formal_within types kind o access place object is (at, same, within) =
    let one : at ≡ place = cc same in
    rw (is, ← one) within

-- Where the call of an operation ends that begins a part, typing says that this is a part of the object.
module _ (p : ProgramForm) (cells : Cells) where
  abbrev BeginsPart : Control → Type 0
  BeginsPart [] = Unit {0}
  BeginsPart (frame.Awaits v by done of part tasks ∷ k) = typed.IsTreated p.types cells v (begins by done) (performs of part ∷ tasks)
  BeginsPart (f ∷ k) = Unit {0}

  begins_part : (kinds : List OperandKind) (k : Control) → typed.AtOperation p cells kinds k → BeginsPart k
  begins_part kinds _ (typed.awaiting some treated fits) = treated
  begins_part kinds _ (typed.confined some fits) = tt

part_behind : (p : ProgramForm) (cells : Cells) (callee : Option ℕ) (v : Value) (by : Birth) (done : List PartOf) (of part : ℕ) (tasks : List Task) (k : Control) (a : Activation Value) (rest : List (Activation Value))
    → typed.Waiting p cells callee (Returns [] [] ∷ frame.Awaits v by done of part tasks ∷ k) (a ∷ rest) → typed.IsTreated (seen_in a.procedure p).types cells v (begins by done) (performs of part ∷ tasks)
part_behind p cells callee v by done of part tasks k a rest (waits, others) = go waits
  where
    go : typed.WaitsBy (seen_in a.procedure p) cells (typed.kinds_in p callee) [] [] (frame.Awaits v by done of part tasks ∷ k) a → typed.IsTreated (seen_in a.procedure p).types cells v (begins by done) (performs of part ∷ tasks)
    go (typed.for_call w) = absurd (w.fits)
    go (typed.for_operation w) = begins_part (seen_in a.procedure p) cells w.kinds (frame.Awaits v by done of part tasks ∷ k) w.awaits

-- What may come out of the body: nothing, unless it overrides Initialize, which begins a part of a new object.
module _ (program : Program) (well : IsWellFormed (program_form program)) (of number : ℕ) (b : BodyForm) (there : slice_get (body_forms program) number ≡ Some b) where
  none_out : body_raises no_calls b (λ f. true) ≡ false → (e : Exception) → body_raises no_calls b (is_same e) ≡ true → ⊥
  none_out none e may =
      let more : body_raises no_calls b (λ f. true) ≡ true = body_more no_calls tt (program_form program).types b (is_same e) (λ f. true) (λ f same. refl) may in
      cc (none, more)

  comes_out : (a : Activation Value) (rest : List (Activation Value)) (o : Id) (heap : List Object) (x : Object) → object_at heap o ≡ Some x → (treatment : Treatment) (tasks : List Task) (k behind : Control) → LetsNothingOut treatment b → IsCalled (operations_of program.types.items of) treatment number → (types : List TypeForm) → WaitsFor types o of treatment tasks k behind
      → typed.Waiting (program_form program) (cells_of heap) (Some number) (Returns [] [] ∷ behind) (a ∷ rest) → (e : Exception) → body_raises no_calls b (is_same e) ≡ true → lets_out (implicit_of (program_form program)) x.cell.access treatment e ≡ true
  comes_out a rest o heap x found (begins Creation done) tasks k behind quiet called types (part, is) waiting e may =
      let t : typed.IsTreated (seen_in a.procedure (program_form program)).types (cells_of heap) (Names o) (begins Creation done) (performs of part ∷ tasks) =
      part_behind (program_form program) (cells_of heap) (Some number) (Names o) Creation done of part tasks k a rest (rw is at waiting) in
      let operable : IsOperable (program_form program).types t.0 of part =
      subst (λ (types : List TypeForm). IsOperable types t.0 of part) (same_types a.procedure (program_form program)) (t.2.1.0) in
      let one : t.1.0 ≡ x.cell = some_same (sym t.1.1 ∙ cell_at heap o.0 x found) in
      let same : t.0 ≡ x.cell.access = sym (t.1.2) ∙ ap (λ (c : Cell Value). c.access) one in
      starts_raise program well x.cell.access of part number b (subst (λ (access : ℕ). IsOperable (program_form program).types access of part) same operable) called there e may
    where
      some_same : {c d : Cell Value} → Some c ≡ Some d → c ≡ d
      some_same e' = cc e'
  comes_out a rest o heap x found (begins Copy done) tasks k behind quiet called types waits waiting e may = absurd (none_out quiet e may)
  comes_out a rest o heap x found (begins (Adjustment n) done) tasks k behind quiet called types waits waiting e may = absurd (none_out quiet e may)
  comes_out a rest o heap x found (ends cause) tasks k behind quiet called types waits waiting e may = absurd (none_out quiet e may)

-- The operation of a part of an object begins: what waits for it is behind the treatment of the object, and no other operation runs there, or one does that
-- touches storage, in which the object is freed, allocated or undone.
module _ (program : Program) (number : ℕ) (b : BodyForm) (there : slice_get (body_forms program) number ≡ Some b) (plain : PlainBody (program_form program).types b) (caller : Activation Value) (rest : List (Activation Value)) (gs : List Suspension) (s : State) (stands : Stands program gs (record s { activations = caller ∷ rest })) (o : Id) (of : ℕ) (treatment : Treatment) (tasks : List Task) (k behind : Control) (reference : Value) where
  abbrev pub looking : Object → Sight
  looking x = record { program = seen_by number b (program_form program); object = o; access = x.cell.access }

  pub operation_begins : (e : Event) (heap : List Object) (x : Object) → object_at heap o ≡ Some x → StaysLive x.stage → Alters s.heap e heap → WaitsFor (program_form program).types o of treatment tasks k behind
      → TreatsBy (known_in program caller.procedure gs) (Names o) treatment tasks k heap caller.places caller.operands s.masters
      → Holds (looking x) (variable_kind b.variables 0) reference → HoldScalars (looking x) x
      → AroundTreated program treatment o k gs
      (behind_operation (caller ∷ rest) behind s.masters
      (operating named number b reference behind (record s { activations = caller ∷ rest; heap = heap; mode = Running })))
      → ((e' : Exception) → body_raises no_calls b (is_same e') ≡ true → lets_out (implicit_of (program_form program)) x.cell.access treatment e' ≡ true)
      → Operates program (operating named number b reference behind (record s { activations = caller ∷ rest; heap = heap; mode = Running }))
  operation_begins e heap x found live alters waits treats formal scalars around out =
      let after = operating named number b reference behind (record s { activations = caller ∷ rest; heap = heap; mode = Running }) in
      let body : Body (looking x) behind (record { number = s.next; items = [] } ∷ []) heap (given_places named (reference ∷ []) b.variables) [] Running (Elaborates b.declarations b.statements b.handlers ∷ Returns [] [] ∷ behind) = record {
        x = x;
        found = found;
        live = live;
        of_access = refl;
        scalars = scalars;
        holds = places_hold (looking x) b.variables reference plain.elementary formal;
        own = (tt, tt);
        comes = inl (tt, tt, starts (looking x) b refl (λ e' may. may) plain behind (record { number = s.next; items = [] }));
      } in
      record {
        procedure = number;
        is_body = (b, there);
        plain = plain.plain;
        places = given_places named (reference ∷ []) b.variables;
        operands = [];
        caller = caller;
        rest = rest;
        active = refl;
        behind = behind;
        upper = record { number = s.next; items = [] } ∷ [];
        lower = s.masters;
        masters = refl;
        object = o;
        access = x.cell.access;
        body = rw (seen_as (program_form program) number b there) body;
        treatment = treatment;
        suspended = record {
          suspensions = gs;
          after = k;
          of = of;
          tasks = tasks;
          waits = waits;
          treats = treats;
          stands = stands_kept program (record s { activations = caller ∷ rest }) (behind_operation (caller ∷ rest) behind s.masters after) gs stands e
              (record { procedure = refl; suspended = refl }) alters;
          around = around;
        };
        prepared = rw (seen_as (program_form program) number b there) out;
      }

-- Where no operation runs behind the treatment, none runs behind the body.
pub calm_around : (program : Program) (a : Activation Value) (rest : List (Activation Value)) (gs : List Suspension) (s : State) (k : Control) (IsOperated : Treatment → Id → ℕ → Type 0) (e : Event) (after : State)
    → (c : Begins (known_in program a.procedure gs) a rest s program.types.items (body_forms program) k IsOperated e after) → IsCalm (behind_call k) → AreCalls gs
    → AroundTreated program c.treatment c.o k gs (behind_operation (a ∷ rest) c.behind s.masters after)
calm_around program a rest gs s k IsOperated e after c calm settled =
    inl (calm_behind (known_in program a.procedure gs).program.types c.o c.of c.treatment c.tasks k c.behind c.waits calm, settled)

-- The body begins.
module _ (program : Program) (well : IsWellFormed (program_form program)) (a : Activation Value) (rest : List (Activation Value)) (gs : List Suspension) (s : State) (k : Control) where
  pub begins_operation : (IsOperated : Treatment → Id → ℕ → Type 0) (e : Event) (after : State) → Stands program gs (record s { activations = a ∷ rest })
      → typed.Typed (program_form program) after → (c : Begins (known_in program a.procedure gs) a rest s program.types.items (body_forms program) k IsOperated e after)
      → AroundTreated program c.treatment c.o k gs (behind_operation (a ∷ rest) c.behind s.masters after)
      → PlainBody (program_form program).types c.b × LetsNothingOut c.treatment c.b → Operates program after
  begins_operation IsOperated e after stands typing c around (plain, quiet) =
      let begun = operating named c.number c.b (Part c.o c.place) c.behind (record (running k a rest s) { heap = c.heap }) in
      let waits = subst (λ (types : List TypeForm). WaitsFor types c.o c.of c.treatment c.tasks k c.behind) (same_types a.procedure (program_form program)) c.waits in
      let now : typed.Typed (program_form program) begun = rw c.is at typing in
      let inside : typed.TypedIn (seen_in (Some c.number) (program_form program)) begun = now.inside in
      let own : typed.TypedIn (seen_by c.number c.b (program_form program)) begun = rw (seen_as (program_form program) c.number c.b c.there) at inside in
      rw c.is (operation_begins program c.number c.b c.there plain a rest gs s stands c.o c.of c.treatment c.tasks k c.behind (Part c.o c.place)
      e c.heap c.x c.found c.live c.alters waits c.treats
      (formal_holds program c.number c.b c.o c.place begun (_, refl) c.x c.found own) (scalars_hold program c.number c.b c.o c.place begun (_, refl) c.x c.found own) (rw c.is at around)
      (comes_out program well c.of c.number c.b c.there a rest c.o c.heap c.x c.found c.treatment c.tasks k c.behind quiet c.called (program_form program).types waits (now.waiting)))
