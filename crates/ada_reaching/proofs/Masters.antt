-- The masters of the bodies' own, where bodies shun some access types: which frames stand for them, and what they own.

use Rattle.std.proofs.Common.{◌≡◌, ◌≤◌, ℕ, Bool, true, false, List, [], ◌∷◌, ◌++◌, Option, sym, ap, ◌∙◌, inl, inr, subst, arith}
use Rattle.ada_program.specs.ProgramForm.{ProgramForm}
use Rattle.ada_meaning.specs.declared.state.Id.{Id}
use Rattle.ada_meaning.specs.declared.state.Value.{Value}
use Rattle.ada_meaning.specs.Frame.{Frame}
use Rattle.ada_meaning.specs.Frame as frame
use Rattle.ada_meaning.specs.State.{Activation, Item, Master, declared, height}
use Rattle.ada_meaning.specs.Step.{older, owned, owning, procedure_of, shorter}
use Rattle.ada_meaning.specs.Named.{Object, State}
use Rattle.ada_reaching.specs.Apart.{Apart}
use Rattle.ada_reaching.specs.Reaching.{AreOwnedApart, InMasters, IsOwnedApart, LeftShuns, begins_anew}
use Rattle.ada_reaching.proofs.Going.{World, IsRun, Runs, LeftIn, On, stays}

-- There is a master of the bodies' own, and this is left in those that were entered before it.
abbrev pub InOwn : Apart → (lower : List Master) → (upper : List Master) → (left : List Master → Type 0) → Type 0
InOwn apart lower [] left = ⊥
InOwn apart lower (m ∷ ms) left = AreOwnedApart apart lower m.items × left ms

-- A frame stands for a master that is open or being left.
abbrev pub is_own : Frame Value → Bool
is_own (frame.Elaborates ds fs hs) = true
is_own frame.Closes = true
is_own (frame.Leaves mode) = true
is_own f = false

-- What comes next is declared in the innermost master.
abbrev pub is_declaring : Frame Value → Bool
is_declaring (frame.Declares x) = true
is_declaring (frame.DeclaresRecord x t) = true
is_declaring f = false

-- What one owns behind its newest item is as all of it.
pub older_owned : (apart : Apart) (lower : List Master) (is : List Item) → AreOwnedApart apart lower is → AreOwnedApart apart lower (older is)
older_owned apart lower [] own = tt
older_owned apart lower (i ∷ is) own = own.1

-- Where more masters have been entered there are no fewer items.
pub height_behind : (ms lower : List Master) → height lower ≤ height (ms ++ lower)
height_behind [] lower = omega arith
height_behind (m ∷ ms) lower = let more = height_behind ms lower in omega (arith, more)

module _ (apart : Apart) (lower : List Master) where
  -- Such a frame stands for the innermost master.
  pub in_own :
      (f : Frame Value) (ms : List Master) (left : List Master → Type 0) → is_own f ≡ true → InMasters apart lower f ms left
      → InOwn apart lower ms left
  in_own (frame.Elaborates ds fs hs) [] left is h = h
  in_own (frame.Elaborates ds fs hs) (m ∷ ms) left is h = h
  in_own frame.Closes [] left is h = h
  in_own frame.Closes (m ∷ ms) left is h = h
  in_own (frame.Leaves mode) [] left is h = h
  in_own (frame.Leaves mode) (m ∷ ms) left is h = h
  in_own f ms left is h = absurd (cc)

  -- So does another one in its place.
  pub own_in :
      (f : Frame Value) (ms : List Master) (left : List Master → Type 0) → is_own f ≡ true → InOwn apart lower ms left
      → InMasters apart lower f ms left
  own_in (frame.Elaborates ds fs hs) [] left is h = h
  own_in (frame.Elaborates ds fs hs) (m ∷ ms) left is h = h
  own_in frame.Closes [] left is h = h
  own_in frame.Closes (m ∷ ms) left is h = h
  own_in (frame.Leaves mode) [] left is h = h
  own_in (frame.Leaves mode) (m ∷ ms) left is h = h
  own_in f ms left is h = absurd (cc)

  -- A variable is declared in one, and so is a record object.
  pub declares_in :
      (f : Frame Value) (ms : List Master) (left more : List Master → Type 0) → is_declaring f ≡ true → InOwn apart lower ms left → more ms
      → InMasters apart lower f ms more
  declares_in (frame.Declares x) [] left more is own h = absurd own
  declares_in (frame.Declares x) (m ∷ ms) left more is own h = h
  declares_in (frame.DeclaresRecord x t) [] left more is own h = absurd own
  declares_in (frame.DeclaresRecord x t) (m ∷ ms) left more is own h = h
  declares_in f ms left more is own h = absurd (cc)

  -- Behind its declaration it may own it.
  pub declares_out :
      (f : Frame Value) (ms : List Master) (left : List Master → Type 0) → is_declaring f ≡ true → InMasters apart lower f ms left → left ms
  declares_out (frame.Declares x) [] left is h = absurd h
  declares_out (frame.Declares x) (m ∷ ms) left is h = h
  declares_out (frame.DeclaresRecord x t) [] left is h = absurd h
  declares_out (frame.DeclaresRecord x t) (m ∷ ms) left is h = h
  declares_out f ms left is h = absurd (cc)

module _ (p : ProgramForm) (shuns : ℕ → Bool) (apart : Apart) (ghosts unnamed : Id → Bool) (behind : List (Frame Value)) (lower : List Master) (item : Item)
    (own : IsOwnedApart apart item.owned × (height lower ≤ item.number)) (m : Master) (ms : List Master) where
  -- What is left shuns the types still once the innermost master owns an item more.
  pub grown_left :
      (procedure : Option ℕ) (k : List (Frame Value)) (suspended : List (Activation Value))
      → LeftShuns p shuns apart ghosts unnamed behind lower procedure k (m ∷ ms) suspended
      → LeftShuns p shuns apart ghosts unnamed behind lower procedure k (record m { items = item ∷ m.items } ∷ ms) suspended
  grown_left procedure [] suspended left = left
  grown_left procedure (frame.Returns actuals references ∷ k) suspended (inl (last, none)) = let never : m ∷ ms ≡ [] = none in absurd (cc)
  grown_left procedure (frame.Returns actuals references ∷ k) suspended (inr inner) = inr (record {
    references = inner.references;
    places = inner.places;
    operands = inner.operands;
    anew = inner.anew;
    others = grown_left (procedure_of suspended) k (older suspended) inner.others;
  })
  grown_left procedure (frame.Elaborates ds fs hs ∷ k) suspended left = (left.0, left.1, ((own, left.2.0), left.2.1))
  grown_left procedure (frame.Closes ∷ k) suspended left = (left.0, left.1, ((own, left.2.0), left.2.1))
  grown_left procedure (frame.Leaves mode ∷ k) suspended left = (left.0, left.1, ((own, left.2.0), left.2.1))
  grown_left procedure (frame.Declares x ∷ k) suspended left = (left.0, left.1, grown_left procedure k suspended left.2)
  grown_left procedure (frame.DeclaresRecord x t ∷ k) suspended left = (left.0, left.1, grown_left procedure k suspended left.2)
  grown_left procedure (f ∷ k) suspended left = (left.0, left.1, grown_left procedure k suspended left.2)

module _ (w : World) (acts : List (Activation Value)) (masters : List Master) (heap : List Object) (r : IsRun w acts masters heap) where
  -- The items of the masters that were entered before are numbered below the next one.
  pub height_run : height w.lower ≤ height masters
  height_run = subst (λ (own : List Master). height w.lower ≤ height own) (sym r.owns) (height_behind w.upper w.lower)

  -- The bodies run on in other masters of their own.
  pub masters_run : (upper others : List Master) → others ≡ upper ++ w.lower → IsRun (record w { upper = upper }) acts others heap
  masters_run upper others is = record {
    runs = r.runs;
    waits = r.waits;
    owns = is;
    places = r.places;
    operands = r.operands;
    same = r.same;
  }

  -- So they do once a master has been entered.
  pub entered_run : (m : Master) → IsRun (record w { upper = m ∷ w.upper }) acts (m ∷ masters) heap
  entered_run m = masters_run (m ∷ w.upper) (m ∷ masters) (ap (λ (own : List Master). m ∷ own) r.owns)

  module _ (m : Master) (ms : List Master) (is : w.upper ≡ m ∷ ms) where
    -- The innermost master is the bodies' own.
    own_masters : masters ≡ m ∷ (ms ++ w.lower)
    own_masters = r.owns ∙ ap (λ (upper : List Master). upper ++ w.lower) is

    -- They do once it owns an item more.
    pub owned_run : (item : Item) → IsRun (record w { upper = record m { items = item ∷ m.items } ∷ ms }) acts (owning item masters) heap
    owned_run item = masters_run (record m { items = item ∷ m.items } ∷ ms) (owning item masters) (ap (owning item) own_masters)

    -- They do once it has lost its newest one.
    pub shorter_run : IsRun (record w { upper = record m { items = older m.items } ∷ ms }) acts (shorter masters) heap
    shorter_run = masters_run (record m { items = older m.items } ∷ ms) (shorter masters) (ap shorter own_masters)

    -- They do once it has been left.
    pub left_run : IsRun (record w { upper = ms }) acts (older masters) heap
    left_run = masters_run ms (older masters) (ap (λ (own : List Master). older own) own_masters)

-- The bodies go on once a variable is there, which their innermost master owns.
pub declared_goes :
    (w : World) (x : ℕ) (s : State) (upper : List Master) → w.upper ≡ upper
    → InMasters w.apart w.lower (frame.Declares x) upper (λ (ns : List Master). LeftIn w ns s.control) → Runs w s → begins_anew s.control ≡ true
    → On w (owned (declared x) s)
declared_goes w x s [] is left r anew = absurd left
declared_goes w x s (m ∷ ms) is left r anew =
    let item : Item = record { number = height s.masters; owned = declared x } in
    let inner : World = record w { upper = record m { items = item ∷ m.items } ∷ ms } in
    stays inner (owned (declared x) s) (owned_run w s.activations s.masters s.heap r m ms is item)
    (grown_left w.p w.shuns w.apart w.ghosts w.unnamed w.behind w.lower item (tt, height_run w s.activations s.masters s.heap r) m ms w.procedure s.control
    w.suspended left) anew
