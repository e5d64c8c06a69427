-- The body of a procedure begins: what its caller knows waits for the end of the call.

use Rattle.std.proofs.Common.{◌≡◌, ◌≢◌, ℕ, suc, ◌≤◌, Bool, true, false, List, [], ◌∷◌, ◌++◌, length, take, drop, reverse, refl, sym, ap, ◌∙◌, ◌⊎◌, inl, inr, subst, arith}
use Rattle.std.specs.Prelude.{Option, Some, None}
use Rattle.std.specs.List.{slice_get}
use Rattle.std.proofs.lemmas.Bool.{and_parts}
use Rattle.ada_program.specs.declared.program.Exception.{Exception}
use Rattle.ada_program.specs.declared.program.Program.{Program}
use Rattle.ada_program.specs.Handling.{is_same}
use Rattle.ada_program.specs.Form.{ActualForm}
use Rattle.ada_program.specs.ProgramForm.{BodyForm, ProgramForm, program_form, main_body, seen_by}
use Rattle.ada_effects.specs.Effects.{call_raises, call_frees, body_frees, effects_of}
use Rattle.ada_flow.specs.declared.rule.Hold.{Hold}
use Rattle.ada_flow.specs.declared.rule.Hold.TheVariants as hold
use Rattle.ada_flow.specs.Flow.{Holds, hold_at, variable_access, left_unkept, handed_back, gives_back, first_holds, gone_with}
use Rattle.ada_flow.specs.Tracking.{no_tracks}
use Rattle.ada_program.specs.WellFormed.{is_access, variable_kind, actuals_fit, modes_fit, formal_kinds}
use Rattle.ada_meaning.specs.declared.state.Id.{Id}
use Rattle.ada_meaning.specs.declared.state.Value.{Value}
use Rattle.ada_meaning.specs.declared.state.Value.TheVariants.{Names}
use Rattle.ada_meaning.specs.declared.state.Mode.TheVariants.{Running}
use Rattle.ada_meaning.specs.Event.{Quiet}
use Rattle.ada_meaning.specs.Frame.{Elaborates, Returns}
use Rattle.ada_meaning.specs.State.{Activation, Master, height}
use Rattle.ada_meaning.specs.Step as steps
use Rattle.ada_meaning.specs.Step.{operand_count, given_values, references_in, blanks, given_places}
use Rattle.ada_meaning.specs.Law.{items_of}
use Rattle.ada_meaning.specs.Named.{Object, State, named, object_at}
use Rattle.ada_owners.specs.Places.{variable, access_at}
use Rattle.ada_owners.specs.Reliance.{Says, IsOf, Owns}
use Rattle.ada_owners.specs.Keeping.{IsThere}
use Rattle.ada_sound.proofs.Fits.{none_spared, Fit, Reference, IsOwnedOutside, IsReferred, referred_first, referred_either, IsPlace, ArePlain, plain_by, plain_object, IsSaid, IsRelied, is_object, place_at, weaker_fit, there_by}
use Rattle.ada_sound.proofs.Orderings.{AsGood, called_good}
use Rattle.ada_sound.proofs.Items.{item_below, height_is}
use Rattle.ada_sound.proofs.Stored.{HasDeparted, Stored, stored_entered}
use Rattle.ada_sound.proofs.Activations.{HandedOver, called_fit}
use Rattle.ada_sound.proofs.Begins.{path_names, record_referred}
use Rattle.ada_sound.proofs.Walks.{whole_plain, plain_whole, walk_plain}
use Rattle.ada_sound.proofs.References.{ReferTo, referred_by, referred_from, by_there, from_there, passed_in_order, referred_in_order, formal_referred, all_opened, all_spared}
use Rattle.ada_sound.proofs.Handings.{AreGiven, Handing, IsFormal, formal_at, stands_at, handed_over_once, handed_owes, left_owner, waiting_owns, unkept_less, waiting_lost}
use Rattle.ada_sound.proofs.GivenBack.{gives_some, get_less}
use Rattle.ada_sound.proofs.Outcomes.{to_here}
use Rattle.ada_sound.proofs.Ready.{stays}
use Rattle.ada_sound.proofs.Bodies.{effect_at, callee_get, callee_sees}
use Rattle.ada_sound.proofs.Invariant.{CoveredIn, begun, along, Known, Control, Rooms, RunsOn, Working, CallsOn, ArePassed, handed_at, Hands, Waits, OneAwaits, LiesBelow, body_among, effect_in, kept_in, left_in, outers, outer_of}
use Rattle.ada_sound.proofs.Callers.{Suspension, caller_of, callers_of, known_in, Stands}
use Rattle.ada_sound.proofs.Returns.{Crosses, CrossesTo, crosses_to}

-- What is there and has its words out has its home in an item of a master that is entered.
pub home_low : {under : List Id} (heap : List Object) (masters : List Master) (o : Id) → Stored under heap masters → (x : Object) → object_at heap o ≡ Some x → x.out ≡ true → suc x.cell.home.item ≤ height masters
home_low heap masters o stored x found out =
    let housed = (stored.sane o x found).housed out in
    let below = item_below x.cell.home.item x.cell.access x.cell.home.pool (items_of masters) stored.counted housed in
    let high = height_is masters in
    omega (arith, below, high)

-- What a variable is relied on to name is there: it lies so, if what has departed does, or something is so around.
pub there_low : {under : List Id} (heap : List Object) (masters : List Master) (Around : Type 0) (o : Id) → Stored under heap masters → IsThere heap o → ((x : Object) → HasDeparted heap o x → (suc x.cell.home.item ≤ height masters) ⊎ Around) → LiesBelow heap (height masters) Around o
there_low heap masters Around o stored (x, found, there) departed = by x.out refl
  where
    by : (out : Bool) → x.out ≡ out → LiesBelow heap (height masters) Around o
    by true out = (x, found, inl (home_low heap masters o stored x found out))
    by false back =
        (x, found, elim (departed x (record { found = found; there = there; back = back })) [ inl low ↦ inl low | inr around ↦ inr (back, around) ])

pub relied_says : (heap : List Object) (h : Hold) (kind : Option ℕ) (o : Id) → IsRelied h → Says (access_at heap) h kind o → IsOf (access_at heap) kind o
relied_says heap hold.Null kind o relied s = absurd relied
relied_says heap (hold.Kept r) kind o relied s = s
relied_says heap (hold.Own r) kind o relied s = s
relied_says heap (hold.Alias r) kind o relied s = s
relied_says heap hold.Lost kind o relied s = absurd relied

-- What gives something back owns what it names.
gives_owns : (heap : List Object) (h : Hold) (kind : Option ℕ) (o : Id) → gives_back h ≡ true → Says (access_at heap) h kind o → Owns h
gives_owns heap hold.Null kind o gives s = absurd s
gives_owns heap (hold.Kept r) kind o gives s = tt
gives_owns heap (hold.Own r) kind o gives s = tt
gives_owns heap (hold.Alias r) kind o gives s = absurd (cc gives)
gives_owns heap hold.Lost kind o gives s = absurd (cc gives)

gives_says : (heap : List Object) (h : Hold) (kind : Option ℕ) (o : Id) → gives_back h ≡ true → Says (access_at heap) h kind o → IsOf (access_at heap) kind o
gives_says heap hold.Null kind o gives s = absurd s
gives_says heap (hold.Kept r) kind o gives s = s
gives_says heap (hold.Own r) kind o gives s = s
gives_says heap (hold.Alias r) kind o gives s = absurd (cc gives)
gives_says heap hold.Lost kind o gives s = absurd (cc gives)

module _ (program : Program) (number : ℕ) (b : BodyForm) (given : List ActualForm) (k : Control) (a : Activation Value) (rest : List (Activation Value)) (gs : List Suspension) (s : State) where
  abbrev pub caller : Known
  caller = known_in program a.procedure gs

  -- What has been computed for the actual parameters: the values of the formal ones, and what refers to the components that are given.
  abbrev pub arrived : List Value
  arrived = reverse (take (operand_count given) a.operands)

  abbrev pub values : List Value
  values = given_values given arrived

  abbrev pub references : List Value
  references = references_in given arrived

  abbrev pub referenced : List Reference
  referenced = referred_by s.heap given values ++ referred_from s.heap references

  -- Of which access types the call may free objects.
  abbrev pub frees : ℕ → Bool
  frees = call_frees (effect_in caller number)

  -- What the caller's variables hold, and what is known of them behind the call.
  abbrev pub suspended : Rooms → Holds → Suspension
  suspended rooms holds = record {
    procedure = a.procedure;
    tracks = no_tracks;
    actuals = given;
    passed = values;
    references = references;
    referenced = referenced;
    under = [];
    held = None;
    kept = kept_in caller number;
    control = k;
    masters = s.masters;
    rooms = rooms;
    places = a.places;
    before = left_in caller number holds;
  }

  -- What is known of the caller's variables, once no more is relied on than behind the call.
  module _ (w : Working caller s.heap a.places s.masters (CallsOn caller number b given k)) where
    abbrev pub waiting : Suspension
    waiting = suspended w.rooms w.holds

    abbrev pub callee : Known
    callee = known_in program (Some number) (waiting ∷ gs)

    caller_fit : Fit caller.program.types caller.program.variables (outers caller) none_spared s.heap a.places waiting.before
    caller_fit = weaker_fit waiting.before (called_good caller.program.variables (effect_in caller number) w.holds) w.fit

    waits_by : AsGood waiting.before (left_unkept [] given waiting.before)
    waits_by = unkept_less [] given waiting.before

    -- What the formal parameters of the body are given.
    module _ (passed : ArePassed s.heap a.places (reverse given) a.operands) (heap_plain : ArePlain s.heap) where
      order : AreGiven s.heap a.places given values
      order = passed_in_order s.heap a.places given a.operands passed

      refer : ReferTo s.heap a.places given references
      refer = referred_in_order s.heap a.places given a.operands passed

      abbrev begins : List Value
      begins = given_places named values b.variables

      suits : (actuals_fit caller.program.types caller.program.variables (formal_kinds b) given ≡ true) × (modes_fit b.formals given ≡ true)
      suits = and_parts (actuals_fit caller.program.types caller.program.variables (formal_kinds b) given) (modes_fit b.formals given) w.rest.5

      abbrev Given : ℕ → Type 0
      Given i = IsFormal caller.program.types caller.program.variables frees s.heap a.places w.holds (handed_at given i) (hold_at (first_holds b.formals b.variables) i) (variable_kind b.variables i) (place_at begins i)

      formal : (i : ℕ) → Given i
      formal i = formal_at caller.program.types caller.program.variables frees s.heap a.places w.holds (drop (length values) (blanks named b.variables)) b.formals b.variables given values [] suits.0 suits.1 order w.rest.6 i

      abbrev HandedAt : ℕ → ℕ → Type 0
      HandedAt i x = Handing caller.program.types caller.program.variables frees s.heap a.places w.holds (Some x) (variable_access b.variables i) (place_at begins i)

      handing : (i x : ℕ) → handed_at given i ≡ Some x → HandedAt i x
      handing i x is = go (formal i)
        where
          go : Given i → HandedAt i x
          go (inl none) = let e = none.0 in absurd (cc (is, e))
          go (inr (inl none)) = let e = none.0 in absurd (cc (is, e))
          go (inr (inr h)) = rw is at (h.1)

      -- A variable that is handed over refers to no record.
      value_of : {given' : Option ℕ} {kind : Option ℕ} {v : Value} (h : Handing caller.program.types caller.program.variables frees s.heap a.places w.holds given' kind v) → v ≡ place_at a.places h.x
      value_of h = h.value ∙ plain_whole (place_at a.places h.x) (plain_object h.x (gives_some (hold_at w.holds h.x) h.owner) h.plain w.fit)

      -- What a formal parameter owns a variable owned.
      owner_left : (x : ℕ) → variable_access caller.program.variables x ≢ None → gives_back (hold_at w.holds x) ≡ true → gives_back (hold_at waiting.before x) ≡ true
      owner_left x there gives = left_owner caller.program.variables (effect_in caller number) w.holds x there gives

      abbrev Over : ℕ → Type 0
      Over i = HandedOver caller.program.types (outers caller) (outer_of (caller_of program waiting gs)) values referenced [] none_spared s.heap b.variables begins (first_holds b.formals b.variables) waiting.before i

      abbrev over_by : (i : ℕ) → Given i → Owns (hold_at (first_holds b.formals b.variables) i) → Over i
      over_by i (inl none) own = let e = none.1 in absurd (rw e at own)
      over_by i (inr (inl none)) own = let e = none.1 in absurd (rw e at own)
      over_by i (inr (inr h)) own = record {
        x = h.1.x;
        value = value_of h.1;
        owner = λ o names. gives_owns s.heap (hold_at waiting.before h.1.x) (variable_access caller.program.variables h.1.x) o (owner_left h.1.x h.1.there h.1.owner) (caller_fit.owners.fit.relied (variable h.1.x) o names);
        lost = λ own'. waiting_lost given waiting.before i h.1.x h.1.is own';
      }

      over_is : (i : ℕ) (g : Given i) (own : Owns (hold_at (first_holds b.formals b.variables) i)) → handed_at given i ≡ Some (over_by i g own).x
      over_is i (inl none) own = let e = none.1 in absurd (rw e at own)
      over_is i (inr (inl none)) own = let e = none.1 in absurd (rw e at own)
      over_is i (inr (inr h)) own = h.1.is

      abbrev over : (i : ℕ) → Owns (hold_at (first_holds b.formals b.variables) i) → Over i
      over i own = over_by i (formal i) own

      over_once : (i j : ℕ) (x : Owns (hold_at (first_holds b.formals b.variables) i)) (y : Owns (hold_at (first_holds b.formals b.variables) j)) → (over i x).x ≡ (over j y).x → i ≡ j
      over_once i j x y same = handed_over_once caller.program.types caller.program.variables frees s.heap a.places w.holds [] given w.rest.6 i j (over i x).x (over_is i (formal i) x) (over_is j (formal j) y ∙ ap Some (sym same))

      -- What a formal parameter is relied on to name is there.
      right_by : (i : ℕ) (o : Id) → place_at begins i ≡ Names o → Given i → Says (access_at s.heap) (hold_at (first_holds b.formals b.variables) i) (variable_access b.variables i) o
      right_by i o names (inl none) = let e = none.1 in rw e tt
      right_by i o names (inr (inl (none, e, inl (plain, inl null)))) = absurd (cc (names, null))
      right_by i o names (inr (inl (none, e, inl (plain, inr l)))) =
          rw (e, l.of) (path_names w.fit l.path l.access (place_at begins i) o l.names l.kept l.found names)
      right_by i o names (inr (inl (none, e, inr p))) = let is = p.by.1 in absurd (cc (is, names))
      right_by i o names (inr (inr h)) =
          rw (h.0, h.1.of) (gives_says s.heap (hold_at waiting.before h.1.x) (variable_access caller.program.variables h.1.x) o (owner_left h.1.x h.1.there h.1.owner) (caller_fit.owners.fit.relied (variable h.1.x) o (sym (value_of h.1) ∙ names)))

      said_by : (i : ℕ) → Given i → IsSaid (place_at values i) (hold_at (first_holds b.formals b.variables) i) (place_at begins i)
      said_by i (inl none) = let e = none.1 in rw e tt
      said_by i (inr (inl none)) = let e = none.1 in rw e tt
      said_by i (inr (inr h)) = rw (h.0) (
        stands_at caller.program.types caller.program.variables frees s.heap a.places w.holds (drop (length values) (blanks named b.variables)) given values order i h.1.x h.1.is,
        rw (h.1.value) (whole_plain (place_at a.places h.1.x)),
      )

      -- A record parameter refers to an object that the call refers to, and other formal parameters refer to no record.
      object_by : (i : ℕ) → hold_at (first_holds b.formals b.variables) i ≢ hold.Lost → Given i → IsPlace caller.program.types (referenced ++ (outers caller).referenced) (variable_kind b.variables i) (place_at begins i)
      object_by i ne (inl none) = absurd (ne none.1)
      object_by i ne (inr (inl (none, e, inl (plain, inl null)))) = rw null plain
      object_by i ne (inr (inl (none, e, inl (plain, inr l)))) =
          plain_by caller.program.types (referenced ++ (outers caller).referenced) (variable_kind b.variables i) (place_at begins i) plain
          (walk_plain s.heap heap_plain (along a.places l.path) (begun a.places l.path) (place_at begins i) (whole_plain (place_at a.places l.path.root)) l.found)
      object_by i ne (inr (inl (none, e, inr p))) =
          let h = record_referred w.fit p.p (place_at begins i) p.lies p.kept p.by in
          let among = formal_referred caller.program.types caller.program.variables s.heap a.places (drop (length values) (blanks named b.variables)) b.formals b.variables given values suits.0 suits.1 order i p.object ne h.o h.place h.t h.is h.there in
          rw h.is (
            p.object,
            h.t,
            referred_first referenced (outers caller).referenced h.o h.t (referred_first (referred_by s.heap given values) (referred_from s.heap references) h.o h.t among),
            (λ c k selects. h.within c k (p.reached c k selects)),
          )
      object_by i ne (inr (inr h)) =
          plain_by caller.program.types (referenced ++ (outers caller).referenced) (variable_kind b.variables i) (place_at begins i) h.2
          (rw (h.1.value) (whole_plain (place_at a.places h.1.x)))

      -- All that the call refers to is there.
      referred_there : (o : Id) (t : ℕ) → IsReferred referenced o t → access_at s.heap o ≡ Some t
      referred_there o t is =
          elim (referred_either (referred_by s.heap given values) (referred_from s.heap references) o t is)
          [ inl e ↦ by_there s.heap given values o t e | inr e ↦ from_there s.heap references o t e ]

      begun_fit : Fit caller.program.types b.variables (outers callee) none_spared s.heap begins (first_holds b.formals b.variables)
      begun_fit =
          called_fit caller.program.types (outers caller) (outer_of (caller_of program waiting gs)) values referenced [] none_spared s.heap b.variables begins (first_holds b.formals b.variables) waiting.before caller_fit waits_by
          (λ x own. waiting_owns given waiting.before x own) over over_once (λ i o names. right_by i o names (formal i)) (λ i. said_by i (formal i)) (λ i ne. object_by i ne (formal i)) referred_there

      module _ (stands : Stands program gs (record s { activations = a ∷ rest })) where
        sees : seen_by number b caller.program ≡ callee.program
        sees = callee_sees (program_form program) a.procedure number b stands.body w.rest.0

        callee_fit : Fit callee.program.types callee.program.variables (outers callee) none_spared s.heap begins (first_holds b.formals b.variables)
        callee_fit = subst (λ (p : ProgramForm). Fit p.types p.variables (outers callee) none_spared s.heap begins (first_holds b.formals b.variables)) sees begun_fit

        -- What may be raised by the body may be raised by the call.
        raised_by_call : (e : Exception) → body_among callee.implicit callee.program e ≡ true → call_raises (effect_in caller number) (is_same e) ≡ true
        raised_by_call e may =
            let effect = effect_at caller.program.types caller.implicit caller.program.bodies number b w.rest.0 in
            rw effect (rw (← sees) at may)

        -- What may be freed by the body may be freed by the call.
        freed_by_it : (t : ℕ) → CoveredIn callee.implicit callee.program t → call_frees (effect_in caller number) t ≡ true
        freed_by_it t may =
            let effect = effect_at caller.program.types caller.implicit caller.program.bodies number b w.rest.0 in
            rw effect (rw (← sees) at may)

        -- What is handed over goes to no record parameter.
        handed_formal : (i : ℕ) → Given i → (x : ℕ) → handed_at given i ≡ Some x → is_object b.variables i ≡ false
        handed_formal i (inl none) x is = let e = none.0 in absurd (cc (is, e))
        handed_formal i (inr (inl none)) x is = let e = none.0 in absurd (cc (is, e))
        handed_formal i (inr (inr h)) x is = h.2

        -- What is handed over.
        hands_before : Hands (seen_by number b caller.program) caller.program given waiting.before
        hands_before = record {
          alike = λ i x is. let h = handing i x is in let same : h.x ≡ x = cc (h.is) in h.of ∙ ap (λ (y : ℕ). variable_access caller.program.variables y) same;
          once = handed_over_once caller.program.types caller.program.variables frees s.heap a.places w.holds [] given w.rest.6;
          owned = λ i x is. let h = handing i x is in let same : h.x ≡ x = cc (h.is) in subst (λ (y : ℕ). gives_back (hold_at waiting.before y) ≡ true) same (owner_left h.x h.there h.owner);
          plain = λ i x is. let h = handing i x is in let same : h.x ≡ x = cc (h.is) in subst (λ (y : ℕ). is_object caller.program.variables y ≡ false) same h.plain;
          formal = λ i x is. handed_formal i (formal i) x is;
          owes = handed_owes caller.program.types caller.program.variables frees s.heap a.places w.holds b.formals b.variables given suits.0 suits.1;
        }

        -- The caller waits.
        caller_waits : Waits callee.implicit callee.program (caller_of program waiting gs) (callers_of program gs)
        caller_waits = record {
          goes_on = to_here (RunsOn caller k w.rooms) (handed_back given waiting.before) w.rest.1;
          raises = λ e may. w.rest.2 e (raised_by_call e may);
          roomed = w.roomed;
          said = caller_fit.said;
          objects = caller_fit.objects;
          lost = get_less given w.holds waiting.before (called_good caller.program.variables (effect_in caller number) w.holds) w.rest.4;
          hands = subst (λ (p : ProgramForm). Hands p caller.program given waiting.before) sees hands_before;
          passes = passes_by;
          opened = all_opened caller.program.types caller.program.variables frees s.heap a.places w.holds w.fit (formal_kinds b) given values references suits.0 refer w.rest.6;
          covers = λ t may. (w.rest.3 t (freed_by_it t may)).1;
          settled = refl;
          unheld = refl;
        }
          where
            passes_by : (i x : ℕ) → handed_at given i ≡ Some x → place_at values i ≡ place_at a.places x
            passes_by i x is =
                let h = handing i x is in
                let same : h.x ≡ x = cc (h.is) in
                sym (stands_at caller.program.types caller.program.variables frees s.heap a.places w.holds (drop (length values) (blanks named b.variables)) given values order i x is) ∙ (value_of h ∙ ap (λ (y : ℕ). place_at a.places y) same)

        -- What has departed is there where an operation runs around the caller.
        module _ (departed : (o : Id) (x : Object) → HasDeparted s.heap o x → OneAwaits (callers_of program gs)) where
          lies_low : (o : Id) → IsThere s.heap o → LiesBelow s.heap (height s.masters) (OneAwaits (callers_of program gs)) o
          lies_low o there = there_low s.heap s.masters (OneAwaits (callers_of program gs)) o w.stored there (λ x gone. inr (departed o x gone))

          caller_low : (x : ℕ) (o : Id) → IsRelied (hold_at (left_unkept [] given waiting.before) x) → place_at a.places x ≡ Names o → LiesBelow s.heap (height s.masters) (OneAwaits (callers_of program gs)) o
          caller_low x o relied names =
              let waits = weaker_fit (left_unkept [] given waiting.before) waits_by caller_fit in
              lies_low o (there_by s.heap _ o (relied_says s.heap (hold_at (left_unkept [] given waiting.before) x) _ o relied (waits.owners.fit.relied (variable x) o names)))

          -- So it is of what the call refers to.
          referred_low : (o : Id) (t : ℕ) → IsReferred referenced o t → LiesBelow s.heap (height s.masters) (OneAwaits (callers_of program gs)) o
          referred_low o t is = lies_low o (there_by s.heap (Some t) o (referred_there o t is))

          -- The body begins, if it runs from where its formal parameters are relied on to be what the call gave them.
          pub calls_to : RunsOn callee (Elaborates b.declarations b.statements b.handlers ∷ Returns given references ∷ k) (gone_with b.declarations ∷ []) (first_holds b.formals b.variables) → CrossesTo program (waiting ∷ gs) s.heap Quiet (steps.begun named number b given arrived (record s { activations = a ∷ rest; control = k; mode = Running }))
          calls_to runs = record {
            stepped = stays callee Quiet (steps.begun named number b given arrived (record s { activations = a ∷ rest; control = k; mode = Running })) (
              tt,
              record {
                rooms = gone_with b.declarations ∷ [];
                holds = first_holds b.formals b.variables;
                stored = stored_entered s.next w.stored;
                roomed = (tt, refl);
                fit = callee_fit;
                rest = runs;
              },
            ) tt;
            stands = record {
              body = (b, callee_get (program_form program) a.procedure number b stands.body w.rest.0);
              behind = (given, references, k, refl);
              bodies = (refl, stands.body, stands.behind, stands.bodies, refl);
              standing = record {
                suspended = (refl, stands.standing.suspended);
                waiting = (inl caller_waits, stands.standing.waiting);
                low = (caller_low, referred_low, (λ o none. absurd none), stands.standing.low, (λ x o none names. absurd none));
              };
            };
          }

          pub calls_fine : RunsOn callee (Elaborates b.declarations b.statements b.handlers ∷ Returns given references ∷ k) (gone_with b.declarations ∷ []) (first_holds b.formals b.variables) → Crosses program s.heap Quiet (steps.begun named number b given arrived (record s { activations = a ∷ rest; control = k; mode = Running }))
          calls_fine runs = crosses_to (calls_to runs)

    module _ (stands : Stands program gs (record s { activations = a ∷ rest })) where
      -- What may be freed by the body may be freed by the call.
      pub freed_by_call : (t : ℕ) → body_frees callee.program.types (effects_of callee.implicit callee.program) (main_body callee.program) t ≡ true → call_frees (slice_get (effects_of caller.implicit caller.program).calls number) t ≡ true
      freed_by_call t may =
          let effect = effect_at caller.program.types caller.implicit caller.program.bodies number b w.rest.0 in
          let sees = callee_sees (program_form program) a.procedure number b stands.body w.rest.0 in
          rw effect (rw (← sees) at may)

    module _ (passed : ArePassed s.heap a.places (reverse given) a.operands) where
      -- Each object of an access type that the body may free is owned outside, if the call refers to it.
      pub passes_spared : (t : ℕ) → frees t ≡ true → is_access caller.program.types t ≡ true → (o : Id) → IsReferred referenced o t → IsOwnedOutside (outers caller) o
      passes_spared t may of o is =
          let suits = (and_parts (actuals_fit caller.program.types caller.program.variables (formal_kinds b) given) (modes_fit b.formals given) w.rest.5).0 in
          all_spared caller.program.types caller.program.variables frees s.heap a.places w.holds w.fit
          w.rest.7 t may of (λ p known. (w.rest.3 t may).0.1 p known of) (formal_kinds b) given values references suits
          (passed_in_order s.heap a.places given a.operands passed) (referred_in_order s.heap a.places given a.operands passed) w.rest.6 o is
