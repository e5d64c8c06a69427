-- What is left to do writes to no variable that is a record, but where that is declared (3.3.1), and the records that a body declares stand apart from what is
-- left to do behind it: the invariant of this crate. And what goes on from one state to a later one.

use Rattle.std.proofs.Common.{◌≡◌, ◌≢◌, ℕ, zero, suc, Bool, true, false, List, [], ◌∷◌, length, Option, Some, refl, sym, ap, ◌∙◌, subst}
use Rattle.std.specs.List.{slice_get, slice_set}
use Rattle.ada_program.specs.declared.program.TypeDefinition.{TypeDefinition}
use Rattle.ada_program.specs.Form.{PathForm, ActualForm, in_value, in_null, in_access, in_record, in_out_path, in_out_access, in_out_component, in_out_record, StmtForm, skips, assigns, assigns_record, frees, gets, writes, writes_text, chooses, repeats, counts, exits, calls, returns, raises, encloses, StmtsForm, no_stmts, a_stmt, BranchesForm, otherwise, a_branch, HandlersForm, no_handlers, a_handler, DeclarationForm, creates_pool, collects, declares, declares_record}
use Rattle.ada_program.specs.ProgramForm.{BodyForm}
use Rattle.ada_parts.specs.Task.{Task}
use Rattle.ada_meaning.specs.declared.state.Id.{Id}
use Rattle.ada_meaning.specs.declared.state.Value.{Value}
use Rattle.ada_meaning.specs.declared.state.Value.TheVariants.{Names}
use Rattle.ada_meaning.specs.Frame.{Treatment, Frame}
use Rattle.ada_meaning.specs.Frame as frame
use Rattle.ada_meaning.specs.State.{Activation}
use Rattle.ada_meaning.specs.Step.{older, places_of, procedure_of, with_places, with_operands, treating, storing, copied_back}
use Rattle.ada_meaning.specs.Named.{State, named}
use Rattle.ada_finalized.specs.Law.{NoOperationRunsOn}
use Rattle.ada_declared.specs.Declared.{IsRecordVariable, DeclaresApart, StandsApart, formals_given}

-- What text writes to, where P holds of each variable that may be written to.

-- If a path is a variable, and no component (4.1), it is one of these.
abbrev pub TargetSpares : (P : ℕ → Type 0) → PathForm → Type 0
TargetSpares P path = path.selectors ≡ [] → P path.root

-- A variable that is given for a formal parameter of mode `in out`, and gets something back (6.4.1), is one of these.
abbrev pub ActualSpares : (P : ℕ → Type 0) → ActualForm → Type 0
ActualSpares P (in_value e) = Unit {0}
ActualSpares P in_null = Unit {0}
ActualSpares P (in_access path) = Unit {0}
ActualSpares P (in_record p) = Unit {0}
ActualSpares P (in_out_path path) = P path.root
ActualSpares P (in_out_access path) = P path.root
ActualSpares P (in_out_component path) = Unit {0}
ActualSpares P (in_out_record p) = Unit {0}

abbrev pub ActualsSpare : (P : ℕ → Type 0) → List ActualForm → Type 0
ActualsSpare P [] = Unit {0}
ActualsSpare P (a ∷ rest) = ActualSpares P a × ActualsSpare P rest

-- A variable that is created, and is no record object, is one of these (3.3.1).
abbrev pub DeclarationSpares : (P : ℕ → Type 0) → DeclarationForm → Type 0
DeclarationSpares P (creates_pool pool) = Unit {0}
DeclarationSpares P (collects access) = Unit {0}
DeclarationSpares P (declares x right) = P x
DeclarationSpares P (declares_record x object initial) = Unit {0}

abbrev pub DeclarationsSpare : (P : ℕ → Type 0) → List DeclarationForm → Type 0
DeclarationsSpare P [] = Unit {0}
DeclarationsSpare P (d ∷ ds) = DeclarationSpares P d × DeclarationsSpare P ds

abbrev mutual
  -- So is each to which a statement writes, at any depth.
  pub StmtSpares : (P : ℕ → Type 0) → StmtForm → Type 0
  StmtSpares P skips = Unit {0}
  StmtSpares P (assigns target right) = TargetSpares P target
  StmtSpares P (assigns_record target items) = Unit {0}
  StmtSpares P (frees access path) = TargetSpares P path
  StmtSpares P (gets target) = TargetSpares P target
  StmtSpares P (writes e) = Unit {0}
  StmtSpares P (writes_text text) = Unit {0}
  StmtSpares P (chooses branches) = BranchesSpare P branches
  StmtSpares P (repeats condition fs end_spot) = StmtsSpare P fs
  StmtSpares P (counts x low high fs end_spot) = P x × StmtsSpare P fs
  StmtSpares P (exits condition spot) = Unit {0}
  StmtSpares P (calls procedure actuals) = ActualsSpare P actuals
  StmtSpares P (returns spot) = Unit {0}
  StmtSpares P (raises e) = Unit {0}
  StmtSpares P (encloses ds fs hs) = DeclarationsSpare P ds × StmtsSpare P fs × HandlersSpare P hs

  -- Each to which statements write.
  pub StmtsSpare : (P : ℕ → Type 0) → StmtsForm → Type 0
  StmtsSpare P no_stmts = Unit {0}
  StmtsSpare P (a_stmt f fs) = StmtSpares P f × StmtsSpare P fs

  -- Each to which branches write.
  pub BranchesSpare : (P : ℕ → Type 0) → BranchesForm → Type 0
  BranchesSpare P (otherwise fs) = StmtsSpare P fs
  BranchesSpare P (a_branch e fs branches) = StmtsSpare P fs × BranchesSpare P branches

  -- Each to which handlers write.
  pub HandlersSpare : (P : ℕ → Type 0) → HandlersForm → Type 0
  HandlersSpare P no_handlers = Unit {0}
  HandlersSpare P (a_handler choices fs hs) = StmtsSpare P fs × HandlersSpare P hs

-- A part of a body (3.11), with its statements and their handlers.
abbrev pub PartSpares : (P : ℕ → Type 0) → List DeclarationForm → StmtsForm → HandlersForm → Type 0
PartSpares P ds fs hs = DeclarationsSpare P ds × StmtsSpare P fs × HandlersSpare P hs

-- A whole body.
abbrev pub BodySpares : (P : ℕ → Type 0) → BodyForm → Type 0
BodySpares P b = PartSpares P b.declarations b.statements b.handlers

-- Does an operation of a controlled type end next (7.6, 7.6.1)?
abbrev pub ends_operation : List (Frame Value) → Bool
ends_operation [] = false
ends_operation (frame.Awaits v by done of part tasks ∷ k) = true
ends_operation (frame.Confines ∷ k) = true
ends_operation (f ∷ k) = false

module _ (bodies : List BodyForm) where
  -- A variable of a procedure's body is no record.
  abbrev pub IsOther : (procedure : Option ℕ) → (variable : ℕ) → Type 0
  IsOther procedure x = IsRecordVariable bodies procedure x → ⊥

  -- An activation goes on, and its variables that are records hold what they held.
  pub record HoldsTheSame (before after : Activation Value) : Type 0 where
    pub procedure : after.procedure ≡ before.procedure
    pub held : (x : ℕ) → IsRecordVariable bodies before.procedure x → slice_get after.places x ≡ slice_get before.places x

  -- The same bodies run on, and the innermost one goes on so.
  abbrev pub GoesOn : (before after : List (Activation Value)) → Type 0
  GoesOn [] after = (after ≡ [])
  GoesOn (a ∷ behind) [] = ⊥
  GoesOn (a ∷ behind) (b ∷ later) = HoldsTheSame a b × (later ≡ behind)

module _ (types : List TypeDefinition) (bodies : List BodyForm) where
  -- What a frame holds writes to variables of which P holds; and a call is not what an operation waits for.
  abbrev pub FrameSpares : (P : ℕ → Type 0) → Frame Value → (behind : List (Frame Value)) → Type 0
  FrameSpares P (frame.Elaborates ds fs hs) k = PartSpares P ds fs hs
  FrameSpares P (frame.Does fs) k = StmtsSpare P fs
  FrameSpares P (frame.Decides fs branches) k = StmtsSpare P fs × BranchesSpare P branches
  FrameSpares P (frame.Repeats condition fs) k = StmtsSpare P fs
  FrameSpares P (frame.Turns condition fs) k = StmtsSpare P fs
  FrameSpares P (frame.Ranges x fs) k = P x × StmtsSpare P fs
  FrameSpares P (frame.Counts x value last fs) k = P x × StmtsSpare P fs
  FrameSpares P (frame.Handles hs) k = HandlersSpare P hs
  FrameSpares P (frame.Calls procedure b actuals) k = ActualsSpare P actuals × (slice_get bodies procedure ≡ Some b) × (ends_operation k ≡ false)
  FrameSpares P (frame.Stores x) k = P x
  FrameSpares P (frame.Declares x) k = P x
  FrameSpares P (frame.Clears x) k = P x
  FrameSpares P f k = Unit {0}

  -- So it is with all that is left to do, where the body of this procedure runs, with these variables, and these activations wait for it.
  abbrev pub Stands : List (Frame Value) → (procedure : Option ℕ) → (places : List Value) → (suspended : List (Activation Value)) → Type 0
  Stands [] procedure places suspended = Unit {0}
  Stands (frame.Returns actuals references ∷ k) procedure places suspended =
      DeclaresApart bodies (formals_given (length actuals) k) procedure places k × ActualsSpare (IsOther bodies (procedure_of suspended)) actuals
      × Stands k (procedure_of suspended) (places_of suspended) (older suspended)
  Stands (f ∷ k) procedure places suspended = FrameSpares (IsOther bodies procedure) f k × Stands k procedure places suspended

  -- So it is where these activations are there, the running one first.
  abbrev pub StandsBy : List (Frame Value) → List (Activation Value) → Type 0
  StandsBy k activations = Stands k (procedure_of activations) (places_of activations) (older activations)

  -- So it is in a state.
  abbrev pub StandsIn : State → Type 0
  StandsIn s = StandsBy s.control s.activations

-- One place of a list gets another value.
pub set_other : {X : Type 0} (xs : List X) (i j : ℕ) (y : X) → i ≢ j → slice_get (slice_set xs i y) j ≡ slice_get xs j
set_other [] i j y differ = refl
set_other (x ∷ xs) zero zero y differ = absurd (differ refl)
set_other (x ∷ xs) zero (suc j) y differ = refl
set_other (x ∷ xs) (suc i) zero y differ = refl
set_other (x ∷ xs) (suc i) (suc j) y differ = set_other xs i j y (λ same. differ (ap suc same))

-- What is found there is the new value, or what was found before.
set_either : {X : Type 0} (P : X → Type 0) (xs : List X) (i j : ℕ) (y v : X) → P y → (slice_get xs j ≡ Some v → P v) → slice_get (slice_set xs i y) j ≡ Some v → P v
set_either P [] i j y v new old is = old is
set_either P (x ∷ xs) zero zero y v new old is = let same : y ≡ v = cc in subst P same new
set_either P (x ∷ xs) zero (suc j) y v new old is = old is
set_either P (x ∷ xs) (suc i) zero y v new old is = old is
set_either P (x ∷ xs) (suc i) (suc j) y v new old is = set_either P xs i j y v new old is

-- What is given back to variables of which P holds changes no other one (6.4.1).
pub copied_other :
    (P : ℕ → Type 0) (x : ℕ) → ((y : ℕ) → P y → y ≢ x) → (actuals : List ActualForm) (formals places : List Value) → ActualsSpare P actuals
    → slice_get (copied_back actuals formals places) x ≡ slice_get places x
copied_other P x differ [] vs places spare = refl
copied_other P x differ (a ∷ rest) [] places spare = refl
copied_other P x differ (in_value e ∷ rest) (v ∷ vs) places spare = copied_other P x differ rest vs places spare.1
copied_other P x differ (in_null ∷ rest) (v ∷ vs) places spare = copied_other P x differ rest vs places spare.1
copied_other P x differ (in_access path ∷ rest) (v ∷ vs) places spare = copied_other P x differ rest vs places spare.1
copied_other P x differ (in_record p ∷ rest) (v ∷ vs) places spare = copied_other P x differ rest vs places spare.1
copied_other P x differ (in_out_path path ∷ rest) (v ∷ vs) places spare =
    copied_other P x differ rest vs (slice_set places path.root v) spare.1 ∙ set_other places path.root x v (differ path.root spare.0)
copied_other P x differ (in_out_access path ∷ rest) (v ∷ vs) places spare =
    copied_other P x differ rest vs (slice_set places path.root v) spare.1 ∙ set_other places path.root x v (differ path.root spare.0)
copied_other P x differ (in_out_component path ∷ rest) (v ∷ vs) places spare = copied_other P x differ rest vs places spare.1
copied_other P x differ (in_out_record p ∷ rest) (v ∷ vs) places spare = copied_other P x differ rest vs places spare.1

module _ (bodies : List BodyForm) where
  -- Another variable is no record.
  other_differs : (procedure : Option ℕ) (x y : ℕ) → IsRecordVariable bodies procedure x → IsOther bodies procedure y → y ≢ x
  other_differs procedure x y is other same = other (subst (IsRecordVariable bodies procedure) (sym same) is)

  -- What goes on.
  pub goes_same : (w : List (Activation Value)) → GoesOn bodies w w
  goes_same [] = refl
  goes_same (a ∷ behind) = (record { procedure = refl; held = λ x is. refl }, refl)

  pub goes_operands : (w : List (Activation Value)) (vs : List Value) (later : List (Activation Value)) → GoesOn bodies w later → GoesOn bodies w (with_operands vs later)
  goes_operands [] vs [] h = refl
  goes_operands [] vs (b ∷ later) h = absurd (cc)
  goes_operands (a ∷ behind) vs [] h = absurd h
  goes_operands (a ∷ behind) vs (b ∷ later) h = (record { procedure = h.0.procedure; held = h.0.held }, h.1)

  pub goes_put :
      (w : List (Activation Value)) (x : ℕ) (v : Value) (later : List (Activation Value)) → IsOther bodies (procedure_of w) x → GoesOn bodies w later
      → GoesOn bodies w (with_places (slice_set (places_of later) x v) later)
  goes_put [] x v [] other h = refl
  goes_put [] x v (b ∷ later) other h = absurd (cc)
  goes_put (a ∷ behind) x v [] other h = absurd h
  goes_put (a ∷ behind) x v (b ∷ later) other h = (
    record {
      procedure = h.0.procedure;
      held = λ y is. set_other b.places x y v (other_differs a.procedure y x is other) ∙ h.0.held y is;
    },
    h.1,
  )

  pub goes_back :
      (actuals : List ActualForm) (formals : List Value) (w : List (Activation Value)) → ActualsSpare (IsOther bodies (procedure_of w)) actuals
      → GoesOn bodies w (with_places (copied_back actuals formals (places_of w)) w)
  goes_back actuals formals [] spare = refl
  goes_back actuals formals (a ∷ behind) spare = (
    record {
      procedure = refl;
      held = λ x is. copied_other (IsOther bodies a.procedure) x (λ y other. other_differs a.procedure x y is other) actuals formals a.places spare;
    },
    refl,
  )

-- What is left to do stands on then.
module _ (types : List TypeDefinition) (bodies : List BodyForm) where
  declares_on :
      (formals : ℕ) (procedure : Option ℕ) (before after : List Value) (k : List (Frame Value))
      → ((x : ℕ) → IsRecordVariable bodies procedure x → slice_get after x ≡ slice_get before x)
      → DeclaresApart bodies formals procedure before k → DeclaresApart bodies formals procedure after k
  declares_on formals procedure before after k same h = (h.0, λ x u some is at. h.1 x u some is (sym (same x is) ∙ at))

  places_on :
      (k : List (Frame Value)) (procedure : Option ℕ) (before after : List Value) (suspended : List (Activation Value))
      → ((x : ℕ) → IsRecordVariable bodies procedure x → slice_get after x ≡ slice_get before x)
      → Stands types bodies k procedure before suspended → Stands types bodies k procedure after suspended
  places_on [] procedure before after suspended same h = tt
  places_on (frame.Returns actuals references ∷ k) procedure before after suspended same h =
      (declares_on (formals_given (length actuals) k) procedure before after k same h.0, h.1, h.2)
  places_on (f ∷ k) procedure before after suspended same h = (h.0, places_on k procedure before after suspended same h.1)

  pub stands_on : (k : List (Frame Value)) (w later : List (Activation Value)) → GoesOn bodies w later → StandsBy types bodies k w → StandsBy types bodies k later
  stands_on k [] later on h = subst (StandsBy types bodies k) (sym on) h
  stands_on k (a ∷ behind) [] on h = absurd on
  stands_on k (a ∷ behind) (b ∷ later) on h =
      subst (λ (waiting : List (Activation Value)). Stands types bodies k b.procedure b.places waiting) (sym on.1)
      (subst (λ (procedure : Option ℕ). Stands types bodies k procedure b.places behind) (sym on.0.procedure)
      (places_on k a.procedure a.places b.places behind on.0.held h))

  -- A variable gets the name of a new object (3.3.1): no operation of that runs.
  module _ (o : Id) where
    declares_new :
        (formals : ℕ) (procedure : Option ℕ) (places : List Value) (x : ℕ) (k : List (Frame Value)) → NoOperationRunsOn (Names o) k
        → DeclaresApart bodies formals procedure places k → DeclaresApart bodies formals procedure (slice_set places x (Names o)) k
    declares_new formals procedure places x k none h =
        (h.0, λ y u some is. set_either (λ (w : Value). StandsApart w k) places x y (Names o) u none (h.1 y u some is))

    pub stands_new :
        (k : List (Frame Value)) (procedure : Option ℕ) (places : List Value) (suspended : List (Activation Value)) (x : ℕ) → NoOperationRunsOn (Names o) k
        → Stands types bodies k procedure places suspended → Stands types bodies k procedure (slice_set places x (Names o)) suspended
    stands_new [] procedure places suspended x none h = tt
    stands_new (frame.Returns actuals references ∷ k) procedure places suspended x none h = (declares_new (formals_given (length actuals) k) procedure places x k none h.0, h.1, h.2)
    stands_new (frame.Awaits v by done of part tasks ∷ k) procedure places suspended x none h = (h.0, stands_new k procedure places suspended x none.1 h.1)
    stands_new (frame.Confines ∷ k) procedure places suspended x none h = (h.0, stands_new k procedure places suspended x none.1 h.1)
    stands_new (f ∷ k) procedure places suspended x none h = (h.0, stands_new k procedure places suspended x none h.1)

  -- An object is treated before what is behind.
  module _ (procedure : Option ℕ) (places : List Value) (suspended : List (Activation Value)) where
    pub treating_stands :
        (v : Value) (treatment : Treatment) (tasks : List Task) (k : List (Frame Value)) → Stands types bodies k procedure places suspended
        → Stands types bodies (treating v treatment tasks k) procedure places suspended
    treating_stands v treatment [] k h = h
    treating_stands v treatment (task ∷ tasks) k h = (tt, h)

    pub storing_stands :
        (references : List Value) (k : List (Frame Value)) → Stands types bodies k procedure places suspended → Stands types bodies (storing named references k) procedure places suspended
    storing_stands [] k h = h
    storing_stands (r ∷ rs) k h = (tt, storing_stands rs k h)

-- An operation has one formal parameter.
pub given_one : (given : ℕ) (k : List (Frame Value)) → ends_operation k ≡ true → formals_given given k ≡ 1
given_one given [] operates = absurd (cc operates)
given_one given (frame.Awaits v by done of part tasks ∷ k) operates = refl
given_one given (frame.Confines ∷ k) operates = refl
given_one given (f ∷ k) operates = absurd (cc operates)

-- No operation waits for a call: that gives an actual parameter for each formal one.
pub given_each : (given : ℕ) (k : List (Frame Value)) → ends_operation k ≡ false → formals_given given k ≡ given
given_each given [] call = refl
given_each given (frame.Awaits v by done of part tasks ∷ k) call = absurd (cc)
given_each given (frame.Confines ∷ k) call = absurd (cc)
given_each given (f ∷ k) call = refl
