-- What is left to do, and the masters that are entered: the collections of each master are the first ones of a declarative part, in order, and behind them come
-- those that the part has left to create (3.11, 7.6.1).

use Rattle.std.proofs.Common.{◌≡◌, ℕ, Bool, true, false, ◌||◌, List, [], ◌∷◌, ◌++◌, Option, refl, sym, subst}
use Rattle.ada_parts.specs.Task.{Task}
use Rattle.ada_program.specs.Nested.{collected}
use Rattle.ada_meaning.specs.declared.state.Value.{Value}
use Rattle.ada_meaning.specs.Frame.{Frame, Treatment, is_master}
use Rattle.ada_meaning.specs.Frame as frame
use Rattle.ada_meaning.specs.State.{Owned, declared, collection, record_object, storage_pool, Item, Master}
use Rattle.ada_meaning.specs.Step.{in_front, older, owning, shorter, treating}
use Rattle.ada_meaning.specs.Named.{State, Next}
use Rattle.ada_operations.specs.Created.{stmts_collections, branches_collections, handlers_collections, body_collections}
use Rattle.ada_order.proofs.Controls.{Does}
use Rattle.ada_scopes.proofs.Counts.{opened_by, opened}
use Rattle.ada_scopes.specs.Scopes.{is_departure}

-- Once this frame is done, the innermost master has been left.
abbrev pub ends_master : Frame Value → Bool
ends_master f = is_master f || is_departure f

-- The masters that are entered then.
abbrev pub past : (ends : Bool) → List Master → List Master
past true ms = older ms
past false ms = ms

-- What is said of the collections that a declarative part creates, in order.
module _ (P : List ℕ → Type 0) where
  -- It is so with each of these parts.
  abbrev pub Each : List (List ℕ) → Type 0
  Each [] = Unit {0}
  Each (us ∷ parts) = P us × Each parts

  -- The innermost master has the first collections of such a part, and these are left to create.
  abbrev pub IsPart : List Master → (coming : List ℕ) → Type 0
  IsPart [] coming = ⊥
  IsPart (m ∷ ms) coming = P (in_front (opened m.items) coming)

  -- It has the first ones.
  abbrev pub HasBegun : List Master → Type 0
  HasBegun ms = (coming : List ℕ) × IsPart ms coming

  -- The parts in what a frame holds are such ones, and so is the part to which it belongs.
  abbrev pub FrameFits : List Master → Frame Value → Type 0
  FrameFits ms (frame.Elaborates ds fs hs) = IsPart ms (collected ds) × Each (stmts_collections fs ++ handlers_collections hs)
  FrameFits ms (frame.Does fs) = Each (stmts_collections fs)
  FrameFits ms (frame.Decides fs branches) = Each (stmts_collections fs) × Each (branches_collections branches)
  FrameFits ms (frame.Repeats condition fs) = Each (stmts_collections fs)
  FrameFits ms (frame.Turns condition fs) = Each (stmts_collections fs)
  FrameFits ms (frame.Ranges x fs) = Each (stmts_collections fs)
  FrameFits ms (frame.Counts x value last fs) = Each (stmts_collections fs)
  FrameFits ms (frame.Handles hs) = Each (handlers_collections hs)
  FrameFits ms frame.Closes = HasBegun ms
  FrameFits ms (frame.Leaves mode) = HasBegun ms
  FrameFits ms (frame.Calls procedure b actuals) = Each (body_collections b)
  FrameFits ms f = Unit {0}

  -- No master is entered.
  abbrev pub IsOut : List Master → Type 0
  IsOut [] = Unit {0}
  IsOut (m ∷ ms) = ⊥

  -- So it is with all that is left to do, by the end of which each master has been left.
  abbrev pub Orderly : List (Frame Value) → List Master → Type 0
  Orderly [] ms = IsOut ms
  Orderly (f ∷ k) ms = FrameFits ms f × Orderly k (past (ends_master f) ms)

  -- So it is in a state.
  abbrev pub Stands : State → Type 0
  Stands s = Orderly s.control s.masters

  -- So it is whatever comes next, and whatever is answered.
  abbrev pub AllOrderly : Next → Type 0
  AllOrderly coming = Does (λ told e s. Stands s) coming

  -- Each master has the first collections of such a part.
  abbrev pub AllBegun : List Master → Type 0
  AllBegun [] = Unit {0}
  AllBegun (m ∷ ms) = HasBegun (m ∷ ms) × AllBegun ms

-- An item is no collection.
abbrev pub IsOther : Owned → Type 0
IsOther (declared x) = Unit {0}
IsOther (collection access pool) = ⊥
IsOther (record_object t) = Unit {0}
IsOther (storage_pool declaration number) = Unit {0}

-- It adds nothing to the collections of its master.
other_opened : (owned : Owned) (ts : List ℕ) → IsOther owned → opened_by owned ts ≡ ts
other_opened (declared x) ts other = refl
other_opened (collection access pool) ts other = absurd other
other_opened (record_object u) ts other = refl
other_opened (storage_pool declaration number) ts other = refl

-- The outer masters stay as they are, whatever the innermost one owns.
older_owning : (item : Item) (ms : List Master) → older (owning item ms) ≡ older ms
older_owning item [] = refl
older_owning item (m ∷ ms) = refl

older_shorter : (ms : List Master) → older (shorter ms) ≡ older ms
older_shorter [] = refl
older_shorter (m ∷ ms) = refl

module _ (P : List ℕ → Type 0) where
  -- If it is so with some parts and others, it is with these and with those; and the other way round.
  pub split : (us vs : List (List ℕ)) → Each P (us ++ vs) → Each P us × Each P vs
  split [] vs h = (tt, h)
  split (u ∷ us) vs h = let rest = split us vs h.1 in ((h.0, rest.0), rest.1)

  pub join : (us vs : List (List ℕ)) → Each P us → Each P vs → Each P (us ++ vs)
  join [] vs first others = others
  join (u ∷ us) vs first others = (first.0, join us vs first.1 others)

  -- Each master has a frame by the end of which it has been left.
  with_begun : (ms : List Master) → HasBegun P ms → AllBegun P (older ms) → AllBegun P ms
  with_begun [] own outer = tt
  with_begun (m ∷ ms) own outer = (own, outer)

  pub all_begun : (k : List (Frame Value)) (ms : List Master) → Orderly P k ms → AllBegun P ms
  all_begun [] [] h = tt
  all_begun [] (m ∷ ms) h = absurd h
  all_begun (frame.Elaborates ds fs hs ∷ k) ms h = with_begun ms (collected ds, h.0.0) (all_begun k (older ms) h.1)
  all_begun (frame.Closes ∷ k) ms h = with_begun ms h.0 (all_begun k (older ms) h.1)
  all_begun (frame.Leaves mode ∷ k) ms h = with_begun ms h.0 (all_begun k (older ms) h.1)
  all_begun (f ∷ k) ms h = all_begun k ms h.1

  -- What is behind the frame of a master goes on as the master owns one item more, or less.
  pub past_owning : (item : Item) (k : List (Frame Value)) (ms : List Master) → Orderly P k (older ms) → Orderly P k (older (owning item ms))
  past_owning item k ms h = subst (Orderly P k) (sym (older_owning item ms)) h

  pub past_shorter : (k : List (Frame Value)) (ms : List Master) → Orderly P k (older ms) → Orderly P k (older (shorter ms))
  past_shorter k ms h = subst (Orderly P k) (sym (older_shorter ms)) h

  -- The next collection of a part is created (7.6.1): the innermost master has it then, and it is left no more.
  pub collects_next : (access number : ℕ) (pool : Option ℕ) (coming : List ℕ) (ms : List Master) → IsPart P ms (access ∷ coming)
      → IsPart P (owning (record { number = number; owned = collection access pool }) ms) coming
  collects_next access number pool coming [] h = h
  collects_next access number pool coming (m ∷ ms) h = h

  -- The newest item goes.
  less_begun : (owned : Owned) (ts : List ℕ) → (coming : List ℕ) × P (in_front (opened_by owned ts) coming) → (coming : List ℕ) × P (in_front ts coming)
  less_begun (declared x) ts h = h
  less_begun (collection access pool) ts (coming, h) = (access ∷ coming, h)
  less_begun (record_object t) ts h = h
  less_begun (storage_pool declaration number) ts h = h

  shorter_items : (is : List Item) → (coming : List ℕ) × P (in_front (opened is) coming) → (coming : List ℕ) × P (in_front (opened (older is)) coming)
  shorter_items [] h = h
  shorter_items (i ∷ is) h = less_begun i.owned (opened is) h

  pub shorter_begun : (ms : List Master) → HasBegun P ms → HasBegun P (shorter ms)
  shorter_begun [] h = h
  shorter_begun (m ∷ ms) h = shorter_items m.items h

  -- The innermost master owns one item more that is no collection.
  module _ (item : Item) (other : IsOther item.owned) where
    other_part : (coming : List ℕ) (ms : List Master) → IsPart P ms coming → IsPart P (owning item ms) coming
    other_part coming [] h = h
    other_part coming (m ∷ ms) h = subst (λ (ts : List ℕ). P (in_front ts coming)) (sym (other_opened item.owned (opened m.items) other)) h

    pub orderly_owning : (k : List (Frame Value)) (ms : List Master) → Orderly P k ms → Orderly P k (owning item ms)
    orderly_owning [] [] h = h
    orderly_owning [] (m ∷ ms) h = absurd h
    orderly_owning (frame.Elaborates ds fs hs ∷ k) ms h = ((other_part (collected ds) ms h.0.0, h.0.1), past_owning item k ms h.1)
    orderly_owning (frame.Closes ∷ k) ms h = ((h.0.0, other_part h.0.0 ms h.0.1), past_owning item k ms h.1)
    orderly_owning (frame.Leaves mode ∷ k) ms h = ((h.0.0, other_part h.0.0 ms h.0.1), past_owning item k ms h.1)
    orderly_owning (f ∷ k) ms h = (h.0, orderly_owning k ms h.1)

  -- An object is treated first (7.6, 7.6.1).
  pub treating_orderly : (v : Value) (treatment : Treatment) (tasks : List Task) (k : List (Frame Value)) (ms : List Master) → Orderly P k ms
      → Orderly P (treating v treatment tasks k) ms
  treating_orderly v treatment [] k ms h = h
  treating_orderly v treatment (task ∷ tasks) k ms h = (tt, h)
