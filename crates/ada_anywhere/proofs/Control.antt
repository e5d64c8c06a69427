-- What is left to do in front of an operation nests wherever that is called: it collects nothing, and its masters own no collection.

use Rattle.std.proofs.Common.{◌≡◌, ℕ, suc, ◌==◌, Bool, true, false, List, [], ◌∷◌, ◌++◌, take, None, arith, refl, sym, ap, subst}
use Rattle.std.proofs.lemmas.Bool.{eq-eqb}
use Rattle.std.proofs.lemmas.List.Elements.{All-nil, All-cons, All-tail}
use Rattle.std.specs.List.{All}
use Rattle.ada_parts.specs.Task.{Task}
use Rattle.ada_program.specs.Form.{DeclarationForm, StmtsForm, BranchesForm, HandlersForm}
use Rattle.ada_program.specs.ProgramForm.{TypeForm, BodyForm}
use Rattle.ada_program.specs.Nested.{Callees, collected}
use Rattle.ada_meaning.specs.declared.state.Value.{Value}
use Rattle.ada_meaning.specs.Frame.{Frame, Treatment}
use Rattle.ada_meaning.specs.Frame as frame
use Rattle.ada_meaning.specs.State.{Item, Master}
use Rattle.ada_meaning.specs.Step.{older, owning, shorter, treating}
use Rattle.ada_meaning.specs.Named.{State}
use Rattle.ada_scopes.specs.Scopes.{type_collected}
use Rattle.ada_scopes.proofs.Counts.{one, times}
use Rattle.ada_scopes.proofs.Texts.{PartNests, StatementsNest, BranchesNest, HandlersNest, BodyNests}
use Rattle.ada_anywhere.specs.Anywhere.{some_waits, has_master, masters_if_waits, entered_since, OwnsNoCollection}

-- The innermost of these masters owns no collection, if there is one.
abbrev pub InnermostOwnsNone : List Master → Type 0
InnermostOwnsNone [] = Unit {0}
InnermostOwnsNone (m ∷ ms) = OwnsNoCollection m

-- The masters behind a frame: that of a master is the last one of it.
abbrev pub outside : (master : Bool) → List Master → List Master
outside true ms = older ms
outside false ms = ms

module _ (types : List TypeForm) (callees : Callees) where
  -- Statements nest wherever they stand, and so do branches and handlers.
  abbrev pub StatementsAnywhere : StmtsForm → Type 0
  StatementsAnywhere fs = (around : List ℕ) → StatementsNest types callees around fs

  abbrev pub BranchesAnywhere : BranchesForm → Type 0
  BranchesAnywhere branches = (around : List ℕ) → BranchesNest types callees around branches

  abbrev pub HandlersAnywhere : HandlersForm → Type 0
  HandlersAnywhere hs = (around : List ℕ) → HandlersNest types callees around hs

  -- So does a part with its statements and its handlers: it collects nothing.
  abbrev pub PartAnywhere : List DeclarationForm → StmtsForm → HandlersForm → Type 0
  PartAnywhere ds fs hs = (collected ds ≡ []) × StatementsAnywhere fs × HandlersAnywhere hs

  -- What a frame holds nests anywhere, and the master of it owns no collection, where an operation waits behind it.
  abbrev pub FrameAnywhere : (waiting : Bool) → List Master → Frame Value → Type 0
  FrameAnywhere waiting ms (frame.Elaborates ds fs hs) = waiting ≡ true → PartAnywhere ds fs hs × InnermostOwnsNone ms
  FrameAnywhere waiting ms (frame.Does fs) = waiting ≡ true → StatementsAnywhere fs
  FrameAnywhere waiting ms (frame.Decides fs branches) = waiting ≡ true → StatementsAnywhere fs × BranchesAnywhere branches
  FrameAnywhere waiting ms (frame.Repeats condition fs) = waiting ≡ true → StatementsAnywhere fs
  FrameAnywhere waiting ms (frame.Turns condition fs) = waiting ≡ true → StatementsAnywhere fs
  FrameAnywhere waiting ms (frame.Ranges x fs) = waiting ≡ true → StatementsAnywhere fs
  FrameAnywhere waiting ms (frame.Counts x value last fs) = waiting ≡ true → StatementsAnywhere fs
  FrameAnywhere waiting ms (frame.Handles hs) = waiting ≡ true → HandlersAnywhere hs
  FrameAnywhere waiting ms (frame.Calls procedure b actuals) = waiting ≡ true → PartAnywhere b.declarations b.statements b.handlers
  FrameAnywhere waiting ms frame.Closes = waiting ≡ true → InnermostOwnsNone ms
  FrameAnywhere waiting ms (frame.Leaves mode) = waiting ≡ true → InnermostOwnsNone ms
  FrameAnywhere waiting ms f = Unit {0}

  -- So it is of what is left to do, with the masters that are entered.
  abbrev pub Anywhere : List (Frame Value) → List Master → Type 0
  Anywhere [] ms = Unit {0}
  Anywhere (f ∷ k) ms = FrameAnywhere (some_waits k) ms f × Anywhere k (outside (has_master f) ms)

  -- So it is of a state.
  abbrev pub Here : State → Type 0
  Here s = Anywhere s.control s.masters

  -- A part collects nothing that nests anywhere: where one of its own collections is open, it does not nest.
  one_same : (a : ℕ) → one (a == a) ≡ 1
  one_same a = ap one (eq-eqb a a refl)

  collects_nothing : (us : List ℕ) (ds : List DeclarationForm) → collected ds ≡ us → ((around : List ℕ) → PartNests types around ds) → collected ds ≡ []
  collects_nothing [] ds is nest = is
  collects_nothing (a ∷ us) ds is nest =
      let here = one_same a in
      let some : times a (collected ds) ≡ times a (a ∷ us) = ap (times a) is in
      let none = (nest (a ∷ [])).away a (omega (arith, some, here)) in
      absurd (omega (arith, none, here))

  pub part_anywhere : (ds : List DeclarationForm) (fs : StmtsForm) (hs : HandlersForm) → ((around : List ℕ) → PartNests types around ds × StatementsNest types callees (collected ds ++ around) fs × HandlersNest types callees (collected ds ++ around) hs) → PartAnywhere ds fs hs
  part_anywhere ds fs hs nest =
      let none = collects_nothing (collected ds) ds refl (λ around. (nest around).0) in (
        none,
        λ around. subst (λ (us : List ℕ). StatementsNest types callees (us ++ around) fs) none (nest around).1,
        λ around. subst (λ (us : List ℕ). HandlersNest types callees (us ++ around) hs) none (nest around).2,
      )

  pub body_anywhere : (b : BodyForm) → ((around : List ℕ) → BodyNests types callees around b) → PartAnywhere b.declarations b.statements b.handlers
  body_anywhere b nest = part_anywhere b.declarations b.statements b.handlers (λ around. ((nest around).part, (nest around).statements, (nest around).handlers))

  -- An object is treated before what is left to do (7.6, 7.6.1).
  pub treating_anywhere : (v : Value) (treatment : Treatment) (tasks : List Task) (k : List (Frame Value)) (ms : List Master) → Anywhere k ms → Anywhere (treating v treatment tasks k) ms
  treating_anywhere v treatment [] k ms h = h
  treating_anywhere v treatment (task ∷ tasks) k ms h = (tt, h)

  -- The innermost master owns no collection, if it did not before.
  abbrev NoMore : (before after : List Master) → Type 0
  NoMore before after = (InnermostOwnsNone before → InnermostOwnsNone after) × (older after ≡ older before)

  frame_no_more : (waiting : Bool) (before after : List Master) (f : Frame Value) → NoMore before after → FrameAnywhere waiting before f → FrameAnywhere waiting after f
  frame_no_more waiting before after (frame.Elaborates ds fs hs) less h = λ is. ((h is).0, less.0 (h is).1)
  frame_no_more waiting before after (frame.Does fs) less h = h
  frame_no_more waiting before after (frame.Decides fs branches) less h = h
  frame_no_more waiting before after (frame.Repeats condition fs) less h = h
  frame_no_more waiting before after (frame.Turns condition fs) less h = h
  frame_no_more waiting before after (frame.Ranges x fs) less h = h
  frame_no_more waiting before after (frame.Counts x value last fs) less h = h
  frame_no_more waiting before after (frame.Handles hs) less h = h
  frame_no_more waiting before after (frame.Calls procedure b actuals) less h = h
  frame_no_more waiting before after frame.Closes less h = λ is. less.0 (h is)
  frame_no_more waiting before after (frame.Leaves mode) less h = λ is. less.0 (h is)
  frame_no_more waiting before after f less h = tt

  no_more_behind : (master : Bool) (k : List (Frame Value)) (before after : List Master) → NoMore before after → (Anywhere k before → Anywhere k after) → Anywhere k (outside master before) → Anywhere k (outside master after)
  no_more_behind true k before after less same h = subst (λ (ms : List Master). Anywhere k ms) (sym less.1) h
  no_more_behind false k before after less same h = same h

  no_more : (k : List (Frame Value)) (before after : List Master) → NoMore before after → Anywhere k before → Anywhere k after
  no_more [] before after less h = tt
  no_more (f ∷ k) before after less h =
      (frame_no_more (some_waits k) before after f less h.0, no_more_behind (has_master f) k before after less (no_more k before after less) h.1)

  older_owning : (item : Item) (ms : List Master) → older (owning item ms) ≡ older ms
  older_owning item [] = refl
  older_owning item (m ∷ ms) = refl

  -- It comes to own an item that is no collection.
  owns_more : (item : Item) (ms : List Master) → type_collected item.owned ≡ None → InnermostOwnsNone ms → InnermostOwnsNone (owning item ms)
  owns_more item [] none h = tt
  owns_more item (m ∷ ms) none h = All-cons (λ i. type_collected i.owned ≡ None) item m.items none h

  pub owning_anywhere : (item : Item) (k : List (Frame Value)) (ms : List Master) → type_collected item.owned ≡ None → Anywhere k ms → Anywhere k (owning item ms)
  owning_anywhere item k ms none h = no_more k ms (owning item ms) (owns_more item ms none, older_owning item ms) h

  -- A collection is created in front of which no operation waits.
  pub behind_owning : (item : Item) (k : List (Frame Value)) (ms : List Master) → Anywhere k (older ms) → Anywhere k (older (owning item ms))
  behind_owning item k ms h = subst (λ (xs : List Master). Anywhere k xs) (sym (older_owning item ms)) h

  -- Its newest item goes.
  older_shorter : (ms : List Master) → older (shorter ms) ≡ older ms
  older_shorter [] = refl
  older_shorter (m ∷ ms) = refl

  owns_less : (ms : List Master) → InnermostOwnsNone ms → InnermostOwnsNone (shorter ms)
  owns_less [] h = tt
  owns_less (m ∷ ms) h = less m.items h
    where
      less : (items : List Item) → All (λ i. type_collected i.owned ≡ None) items → All (λ i. type_collected i.owned ≡ None) (older items)
      less [] h = h
      less (i ∷ is) h = All-tail (λ i. type_collected i.owned ≡ None) i is h

  pub shorter_anywhere : (k : List (Frame Value)) (ms : List Master) → Anywhere k ms → Anywhere k (shorter ms)
  shorter_anywhere k ms h = no_more k ms (shorter ms) (owns_less ms, older_shorter ms) h

  -- The master of a frame owns no collection, where an operation waits behind that.
  pub master_owns_none : (waiting : Bool) (ms : List Master) (f : Frame Value) → has_master f ≡ true → waiting ≡ true → FrameAnywhere waiting ms f → InnermostOwnsNone ms
  master_owns_none waiting ms (frame.Elaborates ds fs hs) is waits h = (h waits).1
  master_owns_none waiting ms frame.Closes is waits h = h waits
  master_owns_none waiting ms (frame.Leaves mode) is waits h = h waits
  master_owns_none waiting ms f is waits h = absurd (cc is)

  since_it : (n : ℕ) (ms : List Master) → InnermostOwnsNone ms → All OwnsNoCollection (take n (older ms)) → All OwnsNoCollection (take (suc n) ms)
  since_it n [] own outer = All-nil OwnsNoCollection
  since_it n (m ∷ ms) own outer = All-cons OwnsNoCollection m (take n ms) own outer

  since_by : (waiting master : Bool) (f : Frame Value) (k : List (Frame Value)) (ms : List Master) → some_waits k ≡ waiting → has_master f ≡ master → FrameAnywhere (some_waits k) ms f → All OwnsNoCollection (take (entered_since k) (outside (has_master f) ms)) → All OwnsNoCollection (take (masters_if_waits waiting master (entered_since k)) ms)
  since_by true true f k ms waits is own outer =
      since_it (entered_since k) ms (master_owns_none (some_waits k) ms f is waits own)
      (subst (λ (b : Bool). All OwnsNoCollection (take (entered_since k) (outside b ms))) is outer)
  since_by true false f k ms waits is own outer = subst (λ (b : Bool). All OwnsNoCollection (take (entered_since k) (outside b ms))) is outer
  since_by false master f k ms waits is own outer = All-nil OwnsNoCollection

  -- The masters that were entered since the outermost operation was called own no collection.
  pub none_since : (k : List (Frame Value)) (ms : List Master) → Anywhere k ms → All OwnsNoCollection (take (entered_since k) ms)
  none_since [] ms h = All-nil OwnsNoCollection
  none_since (f ∷ k) ms h =
      since_by (some_waits k) (has_master f) f k ms refl refl h.0 (none_since k (outside (has_master f) ms) h.1)
