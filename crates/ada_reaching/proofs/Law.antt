-- A step of bodies that shun some access types looks at no ghost, leaves each as it is, and leaves the bodies so.

use Rattle.std.proofs.Common.{◌≡◌, ℕ, zero, suc, Bool, true, false, List, [], ◌∷◌, Option, Some, None, is_some, refl, sym, ap, ◌∙◌, inl, subst}
use Rattle.std.specs.List.{list_all, slice_get}
use Rattle.ada_program.specs.declared.program.Program.{Program}
use Rattle.ada_program.specs.declared.program.TypeNo.{TypeNo}
use Rattle.ada_program.specs.declared.program.VariableKind.{VariableKind}
use Rattle.ada_program.specs.declared.program.VariableKind.TheVariants as variable
use Rattle.ada_program.specs.Form.{ActualForm}
use Rattle.ada_program.specs.ProgramForm.{TypeForm, record_of, access_to, object_of, VariableForm, BodyForm, ProgramForm, program_form, body_forms, seen_in}
use Rattle.ada_program.specs.WellFormed.{IsWellFormed, designated_in, is_access, object_in, variable_fits, variable_kind, variable_kind_fits}
use Rattle.ada_meaning.specs.declared.state.Id.{Id}
use Rattle.ada_meaning.specs.declared.state.Mode.{Mode}
use Rattle.ada_meaning.specs.declared.state.Mode.TheVariants.{Running, Raising, Exiting, Returning}
use Rattle.ada_meaning.specs.declared.state.Value.{Value}
use Rattle.ada_meaning.specs.declared.state.Value.TheVariants.{Null, Names, Scalar, Part}
use Rattle.ada_meaning.specs.Frame.{Frame}
use Rattle.ada_meaning.specs.Frame as frame
use Rattle.ada_meaning.specs.State.{Activation, Master}
use Rattle.ada_meaning.specs.Step.{held, first_or, operands_of, with_operands, operating, procedure_of, older, places}
use Rattle.ada_meaning.specs.Named.{Object, State, named, next, object_at}
use Rattle.ada_typed.specs.Holding.{Cells, HasKind, cells_of, seen_now}
use Rattle.ada_typed.proofs.Bodies.{SeenFits, seen_fits, types_seen}
use Rattle.ada_typed.proofs.Control as typed
use Rattle.ada_typed.proofs.Operators.{and_left, and_right}
use Rattle.ada_typed.proofs.Runs.{last_typed, typed_filled, typed_holds}
use Rattle.ada_typed.proofs.Values.{OperandKind, lies_in, AreComputed, IsActive, IsOperand}
use Rattle.ada_untouched.specs.Untouched.{Untouched}
use Rattle.ada_reaching.specs.Reaching.{AreLow, IsElsewhere, IsGhost, IsReaching, OperandSeeks}
use Rattle.ada_reaching.specs.Apart.{Apart}
use Rattle.ada_reaching.specs.Law.{AreApart, IsWithin, GoesOn, AllGoOn, none_hidden, ShunnedObjectsAreUntouched}
use Rattle.ada_reaching.specs.Forms.{body_shuns}
use Rattle.ada_reaching.proofs.Begins.{elaborates_shuns}
use Rattle.ada_reaching.proofs.Calls.{AreParts, IsPart}
use Rattle.ada_reaching.proofs.Frames.{RefersTwice}
use Rattle.ada_reaching.proofs.Elsewhere.{given_places_elsewhere}
use Rattle.ada_reaching.proofs.Going.{World, Runs, may_jump}
use Rattle.ada_reaching.proofs.Jumps.{FirstAssigns, FirstIsRooted, FirstRefers, GoesFurther, step_goes}
use Rattle.ada_reaching.proofs.Paths.{IsSound}
use Rattle.ada_reaching.proofs.Rooted.{FrameIsRooted, frame_rooted}
use Rattle.ada_reaching.proofs.Touched.{first_open}

-- The call of an operation ends first.
abbrev begins_operation : List (Frame Value) → Bool
begins_operation [] = false
begins_operation (f ∷ k) = typed.is_operation f

-- So it is where the call of an operation ends.
operation_first :
    (p : ProgramForm) (cells : Cells) (kinds : List OperandKind) (k : List (Frame Value)) → typed.AtOperation p cells kinds k
    → begins_operation k ≡ true
operation_first p cells kinds _ (typed.awaiting some treated fits) = refl
operation_first p cells kinds _ (typed.confined some fits) = refl

-- A type by which record objects are known is no access type.
object_apart : (found : Option TypeForm) → is_some (object_in found) ≡ true → is_some (designated_in found) ≡ false
object_apart None is = absurd (cc)
object_apart (Some (record_of name parts components finalization)) is = refl
object_apart (Some (access_to name designated pool)) is = absurd (cc)
object_apart (Some (object_of record_type)) is = refl

-- So it is with what a record variable is known by, where variables fit.
record_apart :
    (types : List TypeForm) (variables : List VariableForm) (x : ℕ) (object : TypeNo) → list_all (variable_fits types) variables ≡ true
    → variable_kind variables x ≡ Some (variable.Record object) → is_access types object.0 ≡ false
record_apart types [] x object fit is = absurd (cc)
record_apart types (v ∷ variables) zero object fit is =
    let kind : v.kind ≡ variable.Record object = cc in
    let own = and_left (variable_kind_fits types v.kind) _ (and_left (variable_fits types v) (list_all (variable_fits types) variables) fit) in
    object_apart (slice_get types object.0) (ap (variable_kind_fits types) (sym kind) ∙ own)
record_apart types (v ∷ variables) (suc x) object fit is =
    record_apart types variables x object (and_right (variable_fits types v) (list_all (variable_fits types) variables) fit) is

-- What refers to a component is a reference.
are_parts : (types : List TypeForm) (cells : Cells) (kinds : List VariableKind) (rs : List Value) → typed.AreReferences types cells kinds rs → AreParts rs
are_parts types cells [] [] h = tt
are_parts types cells [] (r ∷ rs) h = absurd h
are_parts types cells (kind ∷ kinds) [] h = tt
are_parts types cells (kind ∷ kinds) (Null ∷ rs) h = absurd (h.0)
are_parts types cells (kind ∷ kinds) (Names o ∷ rs) h = absurd (h.0)
are_parts types cells (kind ∷ kinds) (Scalar v ∷ rs) h = absurd (h.0)
are_parts types cells (kind ∷ kinds) (Part o place ∷ rs) h = (tt, are_parts types cells kinds rs h.1)

module _ (p : ProgramForm) (cells : Cells) where
  -- Where a call ends for which an activation waits, what refers to the components that are given does (6.4.1).
  waits_by :
      (own : ProgramForm) (kinds : List VariableKind) (actuals : List ActualForm) (references : List Value) (k : List (Frame Value)) (a : Activation Value)
      → typed.WaitsBy own cells kinds actuals references k a → AreParts references
  waits_by own kinds actuals references k a (typed.for_call waits) = are_parts own.types cells (typed.stored_kinds kinds actuals) references waits.referred
  waits_by own kinds actuals references k a (typed.for_operation waits) = subst (λ (rs : List Value). AreParts rs) (sym waits.no_references) tt

  -- So it is with the first activation that waits.
  waits_first :
      (callee : Option ℕ) (actuals : List ActualForm) (references : List Value) (k : List (Frame Value)) (suspended : List (Activation Value)) (others : Type 0)
      → typed.WaitsFirst p cells callee actuals references k suspended others → AreParts references
  waits_first callee actuals references k [] others h = absurd h
  waits_first callee actuals references k (a ∷ suspended) others h = waits_by (seen_in a.procedure p) (typed.kinds_in p callee) actuals references k a h.0

  -- So it is at the first frame.
  first_refers :
      (w : World) (callee : Option ℕ) (k : List (Frame Value)) (suspended : List (Activation Value)) → typed.Waiting p cells callee k suspended
      → FirstRefers w k
  first_refers w callee [] suspended h = tt
  first_refers w callee (frame.Returns actuals references ∷ k) suspended h = waits_first callee actuals references k suspended _ h
  first_refers w callee (f ∷ k) suspended h = tt

module _ (own : ProgramForm) (s : State) where
  -- Where the call of an operation ends there is no path.
  operation_rooted : (f : Frame Value) → typed.is_operation f ≡ true → FrameIsRooted own.types own.variables f
  operation_rooted (frame.Awaits v by done of part tasks) ends = tt
  operation_rooted frame.Confines ends = tt
  operation_rooted f ends = absurd (cc)

  -- Where a body runs on, the path of its first frame leads somewhere.
  running_rooted :
      (f : Frame Value) (k : List (Frame Value)) → typed.TypedIn own s → s.mode ≡ Running → s.control ≡ f ∷ k → FrameIsRooted own.types own.variables f
  running_rooted f k (typed.running kinds ready fits) runs is =
      frame_rooted own (cells_of s.heap) kinds f k (subst (λ (j : List (Frame Value)). typed.Fits own (cells_of s.heap) kinds j) is fits)
  running_rooted f k (typed.on_jump mode jumps goes) runs is =
      let nowhere : typed.Goes own (cells_of s.heap) Running s.control =
      subst (λ (m : Mode). typed.Goes own (cells_of s.heap) m s.control) (sym jumps.jumps ∙ runs) goes in
      absurd nowhere
  running_rooted f k (typed.operated kinds ready ended) runs is =
      operation_rooted f (ap begins_operation (sym is) ∙ operation_first own (cells_of s.heap) kinds s.control ended)
  running_rooted f k (typed.out_of_operation e kinds jumps ended) runs is =
      operation_rooted f (ap begins_operation (sym is) ∙ operation_first own (cells_of s.heap) kinds s.control ended)

  -- So it is in any mode.
  first_rooted :
      (m : Mode) (k : List (Frame Value)) → typed.TypedIn own s → s.mode ≡ m → s.control ≡ k → FirstIsRooted own.types own.variables m k
  first_rooted Running [] typing runs is = tt
  first_rooted Running (f ∷ k) typing runs is = running_rooted f k typing runs is
  first_rooted (Raising e) k typing runs is = tt
  first_rooted Exiting k typing runs is = tt
  first_rooted Returning k typing runs is = tt

-- What lies in a record refers to it.
lies_part : (types : List TypeForm) (cells : Cells) (t : ℕ) (v : Value) → IsOperand types cells (lies_in t) v → IsPart v
lies_part types cells t Null h = absurd h
lies_part types cells t (Names o) h = absurd h
lies_part types cells t (Scalar n) h = absurd h
lies_part types cells t (Part o place) h = tt

-- So do the two newest operands, where their kinds say so.
two_parts :
    (types : List TypeForm) (cells : Cells) (variables : List VariableForm) (t : ℕ) (kinds ks : List OperandKind) (acts : List (Activation Value))
    → kinds ≡ lies_in t ∷ lies_in t ∷ ks → IsActive types cells variables kinds acts → IsPart (first_or Null (operands_of (with_operands (older (operands_of acts)) acts))) × IsPart (first_or Null (operands_of acts))
two_parts types cells variables t kinds ks acts is active =
    by acts (subst (λ (all : List OperandKind). IsActive types cells variables all acts) is active)
  where
    of : (vs : List Value) → AreComputed types cells (lies_in t ∷ lies_in t ∷ ks) vs → IsPart (first_or Null (older vs)) × IsPart (first_or Null vs)
    of [] h = absurd h
    of (v ∷ []) h = absurd h.1
    of (v ∷ u ∷ vs) h = (lies_part types cells t u h.1.0, lies_part types cells t v h.0)

    by :
        (acts : List (Activation Value)) → IsActive types cells variables (lies_in t ∷ lies_in t ∷ ks) acts
        → IsPart (first_or Null (operands_of (with_operands (older (operands_of acts)) acts))) × IsPart (first_or Null (operands_of acts))
    by [] h = absurd h
    by (a ∷ suspended) h = of a.operands h.1

-- So it is where a record is assigned to another one, in a state whose values are of their kinds.
module _ (own : ProgramForm) (s : State) where
  refers_twice :
      (f : Frame Value) (k : List (Frame Value)) (kinds : List OperandKind) → typed.Fits own (cells_of s.heap) kinds (f ∷ k)
      → IsActive own.types (cells_of s.heap) own.variables kinds s.activations → RefersTwice f s.activations
  refers_twice (frame.Assigns t) k kinds fits active = two_parts own.types (cells_of s.heap) own.variables t kinds fits.0 s.activations fits.2 active
  refers_twice f k kinds fits active = tt

  operation_twice : (f : Frame Value) → typed.is_operation f ≡ true → RefersTwice f s.activations
  operation_twice (frame.Awaits v by done of part tasks) ends = tt
  operation_twice frame.Confines ends = tt
  operation_twice f ends = absurd (cc)

  running_twice : (f : Frame Value) (k : List (Frame Value)) → typed.TypedIn own s → s.mode ≡ Running → s.control ≡ f ∷ k → RefersTwice f s.activations
  running_twice f k (typed.running kinds ready fits) runs is =
      refers_twice f k kinds (subst (λ (j : List (Frame Value)). typed.Fits own (cells_of s.heap) kinds j) is fits) ready.active
  running_twice f k (typed.on_jump mode jumps goes) runs is =
      let nowhere : typed.Goes own (cells_of s.heap) Running s.control =
      subst (λ (m : Mode). typed.Goes own (cells_of s.heap) m s.control) (sym jumps.jumps ∙ runs) goes in
      absurd nowhere
  running_twice f k (typed.operated kinds ready ended) runs is =
      operation_twice f (ap begins_operation (sym is) ∙ operation_first own (cells_of s.heap) kinds s.control ended)
  running_twice f k (typed.out_of_operation e kinds jumps ended) runs is =
      operation_twice f (ap begins_operation (sym is) ∙ operation_first own (cells_of s.heap) kinds s.control ended)

  first_assigns :
      (w : World) (m : Mode) (k : List (Frame Value)) → typed.TypedIn own s → s.mode ≡ m → s.control ≡ k → FirstAssigns w m k s.activations
  first_assigns w Running [] typing runs is = tt
  first_assigns w Running (f ∷ k) typing runs is = running_twice f k typing runs is
  first_assigns w (Raising e) k typing runs is = tt
  first_assigns w Exiting k typing runs is = tt
  first_assigns w Returning k typing runs is = tt

-- Without operands nothing is sought.
none_sought :
    (types : List TypeForm) (shuns : ℕ → Bool) (apart : Apart) (ghosts : Id → Bool) (heap : List Object) (m : Mode) (k : List (Frame Value))
    → OperandSeeks types shuns apart ghosts heap m k []
none_sought types shuns apart ghosts heap Running k = tt
none_sought types shuns apart ghosts heap (Raising e) k = tt
none_sought types shuns apart ghosts heap Exiting k = tt
none_sought types shuns apart ghosts heap Returning k = tt

-- The body of an operation begins that shuns some access types (7.6), for a part of an object that is no ghost: it runs so, in front of what is behind it, and
-- in masters of its own behind those that were entered before.
pub operation_reaches :
    (p : ProgramForm) (shuns : ℕ → Bool) (apart : Apart) (ghosts unnamed : Id → Bool) (procedure : ℕ) (b : BodyForm) (reference : Value)
    (behind : List (Frame Value)) (s : State)
    → slice_get p.bodies procedure ≡ Some b → body_shuns p.types shuns apart b ≡ true
    → ((o : Id) → ghosts o ≡ true → IsGhost p.types shuns (unnamed o) (object_at s.heap o)) → ((o : Id) → unnamed o ≡ true → ghosts o ≡ true)
    → AreLow ghosts s.masters s.heap
    → IsElsewhere ghosts unnamed reference → IsReaching p shuns apart ghosts unnamed behind s.masters (operating named procedure b reference behind s)
operation_reaches p shuns apart ghosts unnamed procedure b reference behind s is shun there are low other =
    let begins : Frame Value = frame.Elaborates b.declarations b.statements b.handlers in
    record {
      ghosts_there = there;
      are_ghosts = are;
      low = low;
      places = given_places_elsewhere ghosts unnamed (reference ∷ []) b.variables (other, tt);
      operands = tt;
      upper = record { number = s.next; items = [] } ∷ [];
      masters = refl;
      control = (
        elaborates_shuns p shuns apart ghosts procedure b is shun,
        refl,
        (tt, inl (refl, refl)),
      );
      jumps = may_jump s.mode (begins ∷ frame.Returns [] [] ∷ behind) refl;
      seeks = none_sought p.types shuns apart ghosts s.heap s.mode (begins ∷ frame.Returns [] [] ∷ behind);
    }

-- The first frame is not the end of the outermost body.
further : (w : World) (k : List (Frame Value)) → (k ≡ frame.Returns [] [] ∷ w.behind → ⊥) → GoesFurther w k
further w [] on = tt
further w (f ∷ k) on = on

-- In a state whose values are of their kinds, what objects and variables hold is.
pub sound_now :
    (program : Program) → IsWellFormed (program_form program) → (s : State) → typed.Typed (program_form program) s
    → IsSound (program_form program).types (seen_now (program_form program) s).variables s.heap (places s)
sound_now program well s typing =
    let p = program_form program in
    let own = seen_now p s in
    let procedure = procedure_of s.activations in
    let fits : SeenFits own = seen_fits p well procedure in
    let types : own.types ≡ p.types = types_seen p procedure in
    record {
      filled = typed_filled p s typing;
      holds = λ x kind is.
          subst (λ (ts : List TypeForm). HasKind ts (cells_of s.heap) kind (held named s x)) types (typed_holds own s x kind typing.inside is).1;
      records = λ x object is.
          ap (λ (ts : List TypeForm). is_access ts object.0) (sym types) ∙ record_apart own.types own.variables x object fits.variables_fit is;
    }

-- The path of the first frame leads somewhere.
pub rooted_now :
    (program : Program) (s : State) → typed.Typed (program_form program) s
    → FirstIsRooted (program_form program).types (seen_now (program_form program) s).variables s.mode s.control
rooted_now program s typing =
    let p = program_form program in
    let own = seen_now p s in
    subst (λ (ts : List TypeForm). FirstIsRooted ts own.variables s.mode s.control) (types_seen p (procedure_of s.activations))
    (first_rooted own s s.mode s.control typing.inside refl refl)

-- Of a state whose values are of their kinds.
pub stays_reaching :
    (program : Program) → IsWellFormed (program_form program) → (shuns : ℕ → Bool) (apart : Apart)
    → AreApart (program_form program) program.types.items shuns apart → (ghosts unnamed : Id → Bool)
    (behind : List (Frame Value)) (lower : List Master) (s : State) → typed.Typed (program_form program) s
    → IsReaching (program_form program) shuns apart ghosts unnamed behind lower s → IsWithin behind s
    → Untouched program.types.items none_hidden ghosts s
    × AllGoOn (GoesOn (program_form program) shuns apart ghosts unnamed behind lower s.heap) (next program.types.items (body_forms program) s)
stays_reaching program well shuns apart are_apart ghosts unnamed behind lower s typing reaching within =
    let p = program_form program in
    let own = seen_now p s in
    let procedure = procedure_of s.activations in
    let w : World = record {
      p = p;
      shuns = shuns;
      apart = apart;
      ghosts = ghosts;
      unnamed = unnamed;
      behind = behind;
      lower = lower;
      before = s.heap;
      there = reaching.ghosts_there;
      are = reaching.are_ghosts;
      low = reaching.low;
      types_fit = well.types_fit;
      procedure = procedure;
      upper = reaching.upper;
      suspended = older s.activations;
    } in
    let sound : IsSound p.types own.variables s.heap (places s) = sound_now program well s typing in
    let root : FirstIsRooted p.types own.variables s.mode s.control = rooted_now program s typing in
    let runs : Runs w s = record {
      runs = refl;
      waits = refl;
      owns = reaching.masters;
      places = reaching.places;
      operands = reaching.operands;
      same = λ o is. refl;
    } in (
      first_open w s sound runs program.types.items s.mode s.control reaching.control root reaching.seeks,
      step_goes w program.types.items refl are_apart s.mode s.control s sound (further w s.control within.on) within.houses root
          (first_refers p (cells_of s.heap) w procedure s.control (older s.activations) typing.waiting)
          (first_assigns own s w s.mode s.control typing.inside refl refl) runs reaching.control reaching.jumps
          reaching.seeks,
    )

-- The law.
pub shunned_untouched : ShunnedObjectsAreUntouched
shunned_untouched program well input events s run shuns apart are_apart ghosts unnamed behind lower reaching within =
    stays_reaching program well shuns apart are_apart ghosts unnamed behind lower s (last_typed program well input events s run) reaching within
