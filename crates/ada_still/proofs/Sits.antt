-- What is left to do sits in still bodies, or behind them: bodies that run in front of a still one are still, and masters that are entered behind all still ones
-- own no collection of the access types that only still bodies declare.

use Rattle.std.proofs.Common.{◌≡◌, ◌⊎◌, inl, inr, ℕ, Bool, true, false, not, List, [], ◌∷◌, map, Option, Some, None, refl, sym, ap, ◌∙◌}
use Rattle.std.specs.Prelude.{◌&&◌, is_some}
use Rattle.std.specs.List.{slice_get}
use Rattle.std.proofs.lemmas.Bool.{and_parts}
use Rattle.ada_program.specs.declared.program.Finalization.{Finalization}
use Rattle.ada_program.specs.declared.program.TypeDefinition.{TypeDefinition}
use Rattle.ada_program.specs.Controlled.{number_in, number_of, number_reached, shapes_of}
use Rattle.ada_program.specs.Form.{ActualForm, StmtsForm, HandlersForm, DeclarationForm}
use Rattle.ada_program.specs.ProgramForm.{TypeForm, type_form, BodyForm}
use Rattle.ada_program.specs.WellFormed.{finalization_of, object_named}
use Rattle.ada_program.proofs.Shapes.{same_number}
use Rattle.ada_parts.specs.declared.tasks.Direction.{Direction}
use Rattle.ada_parts.specs.Task.{Task}
use Rattle.ada_meaning.specs.declared.state.Value.{Value}
use Rattle.ada_meaning.specs.Frame.{Frame, Treatment}
use Rattle.ada_meaning.specs.Frame as frame
use Rattle.ada_meaning.specs.State.{Owned, declared, collection, record_object, storage_pool, Item, Master}
use Rattle.ada_meaning.specs.Step.{treating, all_tasks, tasks_for, owning, has_parts as step_has_parts}
use Rattle.ada_meaning.specs.Named.{State, Next}
use Rattle.ada_meaning.specs.Law.{items_of}
use Rattle.ada_typed.proofs.Parts.{shown_number, known_number}
use Rattle.ada_scopes.proofs.Homes.{Housed}
use Rattle.ada_still.specs.Still.{Bounds, right_keeps, declarations_keep, stmts_keep, branches_keep, handlers_keep, body_keeps, has_parts, holds_parts, still_bounds, bounds_without}
use Rattle.ada_still.proofs.Coming.{AllNext}

-- A record type without controlled parts has no number among those that have some (7.6).
none_numbered : (finalization : Option Finalization) → is_some finalization ≡ false → number_in finalization ≡ None
none_numbered None none = refl
none_numbered (Some f) none = absurd (cc none)

-- Nor has one by what is shown of the types.
none_shown : (forms : List TypeForm) (record_type : Option ℕ) → has_parts forms record_type ≡ false → shown_number forms record_type ≡ None
none_shown forms None none = refl
none_shown forms (Some r) none = none_numbered (finalization_of forms r) none

module _ (forms : List TypeForm) (types : List TypeDefinition) (shown : map type_form types ≡ forms) where
  -- For an object of a type without controlled parts there is nothing to do (7.6, 7.6.1).
  pub no_tasks : (access : ℕ) (direction : Direction) → holds_parts forms access ≡ false → all_tasks types access direction ≡ []
  no_tasks access direction none =
      let number : number_reached types access ≡ None = sym (known_number types forms access shown) ∙ none_shown forms (object_named forms (Some access)) none in
      ap (tasks_for (shapes_of types) direction) number

  -- A step says of a record type what the text says: it has no controlled parts.
  pub no_parts : (t : ℕ) → has_parts forms (Some t) ≡ false → step_has_parts types t ≡ false
  no_parts t none =
      let number : number_of types (Some t) ≡ None =
      same_number types t ∙ ap (λ (fs : List TypeForm). number_in (finalization_of fs t)) shown ∙ none_shown forms (Some t) none in
      ap (λ (o : Option ℕ). is_some o) number

-- What is not so is not.
pub not_true : (b : Bool) → not b ≡ true → b ≡ false
not_true true is = absurd (cc is)
not_true false is = refl

module _ (forms : List TypeForm) (bodies : List BodyForm) (still own : ℕ → Bool) where
  -- What the text of still bodies may do, or that of others.
  abbrev pub bounds : (within : Bool) → Bounds
  bounds true = still_bounds forms still
  bounds false = bounds_without own

  -- The declarations, statements and handlers of a body, or of a block, keep to that.
  abbrev pub PartKeeps : (within : Bool) → List DeclarationForm → StmtsForm → HandlersForm → Type 0
  PartKeeps b ds fs hs = (declarations_keep (bounds b) ds ≡ true) × ((stmts_keep (bounds b) fs ≡ true) × (handlers_keep (bounds b) hs ≡ true))

  -- A body is called that keeps to what its caller's text may do, or is still.
  abbrev pub BodyFits : (within : Bool) → BodyForm → Type 0
  BodyFits b body = (body_keeps (bounds b) body ≡ true) ⊎ (body_keeps (bounds true) body ≡ true)

  -- The text that a frame holds keeps to that. In a still body nothing is treated, and no operation is called.
  abbrev pub Holds : (within : Bool) → Frame Value → Type 0
  Holds b (frame.Elaborates ds fs hs) = PartKeeps b ds fs hs
  Holds b (frame.Does fs) = stmts_keep (bounds b) fs ≡ true
  Holds b (frame.Decides fs branches) = (stmts_keep (bounds b) fs ≡ true) × (branches_keep (bounds b) branches ≡ true)
  Holds b (frame.Repeats condition fs) = stmts_keep (bounds b) fs ≡ true
  Holds b (frame.Turns condition fs) = stmts_keep (bounds b) fs ≡ true
  Holds b (frame.Ranges x fs) = stmts_keep (bounds b) fs ≡ true
  Holds b (frame.Counts x value last fs) = stmts_keep (bounds b) fs ≡ true
  Holds b (frame.Handles hs) = handlers_keep (bounds b) hs ≡ true
  Holds b (frame.Calls procedure body actuals) = BodyFits b body × (slice_get bodies procedure ≡ Some body)
  Holds b (frame.Evaluates right) = right_keeps (bounds b) right ≡ true
  Holds b (frame.Targets c right) = right_keeps (bounds b) right ≡ true
  Holds b (frame.Creates access count) = (bounds b).creates access ≡ true
  Holds b (frame.FreesIn access c) = (bounds b).frees access ≡ true
  Holds b (frame.Assigns t) = b ≡ false
  Holds b (frame.Treats v treatment tasks) = b ≡ false
  Holds b (frame.Awaits v by done of part tasks) = b ≡ false
  Holds b frame.Confines = b ≡ false
  Holds b f = Unit {0}

  -- What a master owns was declared by such a text.
  abbrev pub IsOwned : (within : Bool) → Owned → Type 0
  IsOwned b (declared x) = Unit {0}
  IsOwned b (collection access pool) = (bounds b).collects access ≡ true
  IsOwned b (record_object t) = (bounds b).creates t ≡ true
  IsOwned b (storage_pool declaration number) = Unit {0}

  -- So was each of these items.
  abbrev pub AreOwned : (within : Bool) → List Item → Type 0
  AreOwned b [] = Unit {0}
  AreOwned b (i ∷ is) = IsOwned b i.owned × AreOwned b is

  -- A master is entered.
  abbrev pub IsEntered : List Master → Type 0
  IsEntered [] = ⊥
  IsEntered (m ∷ ms) = Unit {0}

  -- Declarations are elaborated next.
  abbrev pub IsElaborating : List (Frame Value) → Type 0
  IsElaborating [] = ⊥
  IsElaborating (frame.Elaborates ds fs hs ∷ k) = Unit {0}
  IsElaborating (f ∷ k) = ⊥

  -- Nothing is left to do, and no master is entered: not in a still body, which comes to its end before.
  abbrev pub IsDone : (within : Bool) → List Master → Type 0
  IsDone true ms = ⊥
  IsDone false [] = Unit {0}
  IsDone false (m ∷ ms) = ⊥

  -- The innermost master owns what such a text declared, and this holds of those outside it.
  abbrev pub Inside : (within : Bool) → List Master → (outside : List Master → Type 0) → Type 0
  Inside b [] outside = ⊥
  Inside b (m ∷ ms) outside = AreOwned b m.items × outside ms

  -- What is left to do sits in still bodies, or behind all of them, with the masters that are entered: each has a frame. Behind the end of a still body come
  -- still ones, or others.
  abbrev pub Sits : (within : Bool) → List (Frame Value) → List Master → Type 0
  Sits b [] ms = IsDone b ms
  Sits b (frame.Elaborates ds fs hs ∷ k) ms = PartKeeps b ds fs hs × Inside b ms (λ (outside : List Master). Sits b k outside)
  Sits b (frame.Closes ∷ k) ms = Unit {0} × Inside b ms (λ (outside : List Master). Sits b k outside)
  Sits b (frame.Leaves mode ∷ k) ms = Unit {0} × Inside b ms (λ (outside : List Master). Sits b k outside)
  Sits b (frame.Returns actuals references ∷ k) ms = Unit {0} × (Sits b k ms ⊎ ((b ≡ true) × Sits false k ms))
  Sits b (frame.DeclaresRecord x t ∷ k) ms = (((bounds b).creates t ≡ true) × IsElaborating k) × Sits b k ms
  Sits b (f ∷ k) ms = Holds b f × Sits b k ms

  -- So it does behind the last frame of the innermost master.
  abbrev pub SitsInside : (within : Bool) → List (Frame Value) → List Master → Type 0
  SitsInside b k ms = Inside b ms (λ (outside : List Master). Sits b k outside)

  -- A state in which that holds; and each object that is in its collection has that among the items of masters.
  abbrev pub Rests : (within : Bool) → State → Type 0
  Rests b s = Sits b s.control s.masters × Housed s.heap (items_of s.masters)

  -- So it is whatever comes next, and whatever is answered.
  abbrev pub AllRest : (within : Bool) → Next → Type 0
  AllRest b = AllNext (Rests b)

  -- In still bodies or behind them.
  abbrev pub SomeRests : State → Type 0
  SomeRests s = (b : Bool) × Rests b s

  abbrev pub AllSome : Next → Type 0
  AllSome = AllNext SomeRests

  -- What still bodies create has no controlled parts.
  pub creates_none : (b : Bool) (t : ℕ) → (bounds b).creates t ≡ true → b ≡ true → holds_parts forms t ≡ false
  creates_none true t is within = not_true (holds_parts forms t) is
  creates_none false t is within = absurd (cc within)

  pub frees_none : (b : Bool) (t : ℕ) → (bounds b).frees t ≡ true → b ≡ true → holds_parts forms t ≡ false
  frees_none true t is within = not_true (holds_parts forms t) is
  frees_none false t is within = absurd (cc within)

  pub assigns_none : (b : Bool) (t : ℕ) → (bounds b).assigns t ≡ true → b ≡ true → has_parts forms (Some t) ≡ false
  assigns_none true t is within = not_true (has_parts forms (Some t)) is
  assigns_none false t is within = absurd (cc within)

  pub collects_none : (b : Bool) (t : ℕ) → (bounds b).collects t ≡ true → b ≡ true → holds_parts forms t ≡ false
  collects_none true t is within = not_true (holds_parts forms t) is
  collects_none false t is within = absurd (cc within)

  -- A truth is one or the other.
  pub other : (b : Bool) → (b ≡ true → ⊥) → b ≡ false
  other true never = absurd (never refl)
  other false never = refl

  -- An object is treated before what comes behind: in still bodies nothing is to be done for it.
  pub treating_sits : (b : Bool) (v : Value) (treatment : Treatment) (tasks : List Task) (k : List (Frame Value)) (ms : List Master) → (b ≡ true → tasks ≡ [])
      → Sits b k ms → Sits b (treating v treatment tasks k) ms
  treating_sits b v treatment [] k ms none h = h
  treating_sits b v treatment (task ∷ tasks) k ms none h = (other b (λ within. cc (none within)), h)

  -- A body keeps to something where its parts do.
  pub part_keeps : (b : Bool) (ds : List DeclarationForm) (fs : StmtsForm) (hs : HandlersForm)
      → (declarations_keep (bounds b) ds && stmts_keep (bounds b) fs && handlers_keep (bounds b) hs) ≡ true → PartKeeps b ds fs hs
  part_keeps b ds fs hs own =
      let outer = and_parts (declarations_keep (bounds b) ds && stmts_keep (bounds b) fs) (handlers_keep (bounds b) hs) own in
      let inner = and_parts (declarations_keep (bounds b) ds) (stmts_keep (bounds b) fs) outer.0 in
      (inner.0, (inner.1, outer.1))

  -- The innermost master owns something more.
  pub owning_inside : (b : Bool) (item : Item) (k : List (Frame Value)) (ms : List Master) → IsOwned b item.owned → SitsInside b k ms → SitsInside b k (owning item ms)
  owning_inside b item k [] may h = absurd h
  owning_inside b item k (m ∷ ms) may h = ((may, h.0), h.1)

  -- So it may be something that both still bodies and others may have declared.
  pub owning_sits : (b : Bool) (item : Item) (k : List (Frame Value)) (ms : List Master) → IsOwned b item.owned → IsOwned false item.owned
      → Sits b k ms → Sits b k (owning item ms)
  owning_sits b item [] [] may anywhere h = h
  owning_sits true item [] (m ∷ ms) may anywhere h = h
  owning_sits false item [] (m ∷ ms) may anywhere h = h
  owning_sits b item (frame.Elaborates ds fs hs ∷ k) ms may anywhere h = (h.0, owning_inside b item k ms may h.1)
  owning_sits b item (frame.Closes ∷ k) ms may anywhere h = (tt, owning_inside b item k ms may h.1)
  owning_sits b item (frame.Leaves mode ∷ k) ms may anywhere h = (tt, owning_inside b item k ms may h.1)
  owning_sits b item (frame.Returns actuals references ∷ k) ms may anywhere (own, inl h) = (tt, inl (owning_sits b item k ms may anywhere h))
  owning_sits b item (frame.Returns actuals references ∷ k) ms may anywhere (own, inr h) = (tt, inr (h.0, owning_sits false item k ms anywhere anywhere h.1))
  owning_sits b item (f ∷ k) ms may anywhere h = (h.0, owning_sits b item k ms may anywhere h.1)

  -- So it may be anything that such a text may declare, where declarations are elaborated: the master is theirs.
  pub owning_elaborating : (b : Bool) (item : Item) (k : List (Frame Value)) (ms : List Master) → IsOwned b item.owned → IsElaborating k → Sits b k ms → Sits b k (owning item ms)
  owning_elaborating b item [] ms may elaborates h = absurd elaborates
  owning_elaborating b item (frame.Elaborates ds fs hs ∷ k) ms may elaborates h = (h.0, owning_inside b item k ms may h.1)
  owning_elaborating b item (f ∷ k) ms may elaborates h = absurd elaborates

  inside_entered : (b : Bool) (k : List (Frame Value)) (ms : List Master) → SitsInside b k ms → IsEntered ms
  inside_entered b k [] h = absurd h
  inside_entered b k (m ∷ ms) h = tt

  pub elaborating_entered : (b : Bool) (k : List (Frame Value)) (ms : List Master) → IsElaborating k → Sits b k ms → IsEntered ms
  elaborating_entered b [] ms elaborates h = absurd elaborates
  elaborating_entered b (frame.Elaborates ds fs hs ∷ k) ms elaborates h = inside_entered b k ms h.1
  elaborating_entered b (f ∷ k) ms elaborates h = absurd elaborates

  -- The body of a call, or of an operation, begins, with a master of its own (6.4, 7.6): in front of a still body it is still, and in front of others it is like
  -- them, or still.
  pub body_begins : (b : Bool) (body : BodyForm) (actuals : List ActualForm) (references : List Value) (k : List (Frame Value)) (m : ℕ) (ms : List Master)
      → BodyFits b body → Sits b k ms
      → (c : Bool) × Sits c (frame.Elaborates body.declarations body.statements body.handlers ∷ frame.Returns actuals references ∷ k) (record { number = m; items = [] } ∷ ms)
  body_begins b body actuals references k m ms (inl keeps) h =
      (b, (part_keeps b body.declarations body.statements body.handlers keeps, (tt, (tt, inl h))))
  body_begins true body actuals references k m ms (inr keeps) h =
      (true, (part_keeps true body.declarations body.statements body.handlers keeps, (tt, (tt, inl h))))
  body_begins false body actuals references k m ms (inr keeps) h =
      (true, (part_keeps true body.declarations body.statements body.handlers keeps, (tt, (tt, inr (refl, h)))))
