-- What a step of a confined body looks at and writes: nothing of the object that lies beside the record.

use Rattle.std.proofs.Common.{◌≡◌, ◌⊎◌, ℕ, ◌+◌, Bool, true, false, List, [], ◌∷◌, refl, ap, ◌∙◌, inl, inr}
use Rattle.std.specs.List.{slice_get}
use Rattle.std.specs.Prelude.{◌==◌, ◌&&◌, Option, Some, None}
use Rattle.ada_program.specs.Form.{ExpressionForm, reads, is_null, ItemForm, item_of_path, item_of_record, RightForm, value_of, assigns, assigns_record, frees, gets, StmtsForm, no_stmts, a_stmt}
use Rattle.ada_program.specs.declared.program.TypeDefinition.{TypeDefinition}
use Rattle.ada_program.specs.Typed.{width_of}
use Rattle.ada_meaning.specs.declared.state.Mode.{Mode}
use Rattle.ada_meaning.specs.declared.state.Mode.TheVariants.{Running, Raising, Exiting, Returning}
use Rattle.ada_meaning.specs.declared.state.Value.{Value}
use Rattle.ada_meaning.specs.declared.state.Value.TheVariants.{Null, Names, Scalar, Part}
use Rattle.ada_meaning.specs.Frame.{Frame, is_return}
use Rattle.ada_meaning.specs.Frame as frame
use Rattle.ada_meaning.specs.State.{Item, Master}
use Rattle.ada_meaning.specs.Step.{places, operands, held, newest}
use Rattle.ada_meaning.specs.Heap.{Cell, Found, on_null, on_gone, on_other, finds}
use Rattle.ada_meaning.specs.Named.{Object, State, named, look, whole, inside}
use Rattle.ada_tracked.specs.Frames.{View}
use Rattle.ada_tracked.specs.Law.{NewestHousesNone, InnermostHousesNone, TakesNone}
use Rattle.ada_tracked.specs.Looking.{StartsElsewhere, HolderIsElsewhere, FreedIsElsewhere, LeadsElsewhere, ExpressionLooksElsewhere, ItemsLookElsewhere, RightLooksElsewhere, StatementsLookElsewhere, NextLooksElsewhere, FirstLooksElsewhere, LooksElsewhere}
use Rattle.ada_tracked.specs.Copying.{AreNoneOf, FrameCopiesNone, FirstCopiesNone, CopiesNone}
use Rattle.ada_tracked.specs.Seen.{leads_to, IsOther, awaits_holder, FormalIsFirst, IsWatched}
use Rattle.ada_tracked.specs.Staying.{UnlessItEnds}
use Rattle.ada_untouched.specs.Untouched.{hides, FreedIsOpen, MayBeSought, MayBeFreed, AreShown, IsInSight, IsOpen, LeadsOn, LeadsToHolder, NewestHousesNoGhost, InnermostHousesNoGhost, ExpressionIsOpen, ItemsAreOpen, RightIsOpen, StatementsAreOpen, FrameIsOpen, JumpIsOpen, FirstIsOpen, Untouched}
use Rattle.ada_untouched.specs.Unwritten.{FrameWritesShown, FirstWritesShown, Unwritten}
use Rattle.ada_beside.specs.Confined.{IsConfinedFrom, IsCopiedFrom, ExpressionIsConfined, ItemsAreConfined, RightIsConfined, StatementsAreConfined, StoresReached, FrameIsConfined, BodyIsConfined, OperandsAreConfined, IsConfined}
use Rattle.ada_beside.specs.Law.{LieBeside, hidden_beside, no_ghosts, TreatsNone, IsWithin}
use Rattle.ada_beside.proofs.Operands.{holder_starts, start_reached}

-- A Boolean is one of the two.
false_or_true : (b : Bool) → (b ≡ false) ⊎ (b ≡ true)
false_or_true true = inr refl
false_or_true false = inl refl

-- Any object may be looked for.
pub in_sight : (v : Value) → IsInSight no_ghosts v
in_sight Null = refl
in_sight (Names o) = refl
in_sight (Scalar v) = refl
in_sight (Part o place) = refl

-- Where the newest of some items houses no objects, it houses no ghost.
newest_no_ghost : (heap : List Object) (items : List Item) → NewestHousesNone items → NewestHousesNoGhost no_ghosts heap items
newest_no_ghost heap [] none = tt
newest_no_ghost heap (i ∷ is) none = inl none

-- So it is with the newest item of the innermost master.
innermost_no_ghost : (heap : List Object) (masters : List Master) → InnermostHousesNone masters → InnermostHousesNoGhost no_ghosts heap masters
innermost_no_ghost heap [] none = tt
innermost_no_ghost heap (m ∷ ms) none = newest_no_ghost heap m.items none

-- A conjunction is false whose first part is.
not_first : (a b : Bool) → a ≡ false → (a && b) ≡ false
not_first a b e = ap (λ (c : Bool). c && b) e

-- A conjunction is false whose second part is.
not_second : (a b : Bool) → b ≡ false → (a && b) ≡ false
not_second true b e = e
not_second false b e = refl

-- What holds unless the body ends holds where it does not end.
pub unless_it_ends : (ends : Bool) (P : Type 0) → ends ≡ false → UnlessItEnds ends P → P
unless_it_ends true P e h = absurd (cc)
unless_it_ends false P e h = h

module _ (types : List TypeDefinition) (w : View) (reaches beside : ℕ → Bool) (apart : LieBeside w reaches beside) where
  -- No component of another object is hidden.
  shown_other : (v : Value) (c : ℕ) → IsOther w.object v → hides (hidden_beside w beside) v c ≡ false
  shown_other Null c other = refl
  shown_other (Names o) c other = not_first (o.0 == w.object.0) (beside c) other
  shown_other (Scalar v) c other = refl
  shown_other (Part o place) c other = refl

  -- None that does not lie beside the record is.
  shown_apart : (v : Value) (c : ℕ) → beside c ≡ false → hides (hidden_beside w beside) v c ≡ false
  shown_apart Null c none = refl
  shown_apart (Names o) c none = not_second (o.0 == w.object.0) (beside c) none
  shown_apart (Scalar v) c none = refl
  shown_apart (Part o place) c none = refl

  -- No component is hidden that a body may store to.
  shown : (v : Value) (c : ℕ) → StoresReached w reaches v c → hides (hidden_beside w beside) v c ≡ false
  shown v c (inl other) = shown_other v c other
  shown v c (inr reached) =
      let d = reached.1.0 in
      ap (λ (u : Value). hides (hidden_beside w beside) u c) reached.0
      ∙ not_second (w.object.0 == w.object.0) (beside c) (ap beside reached.1.1 ∙ apart d reached.1.2)

  module _ (s : State) (formal : FormalIsFirst w (places s)) where
    -- A path leads on over a component that is not hidden.
    path_open :
        (x : ℕ) (cs : List ℕ) → IsConfinedFrom w.tracks.first reaches x cs → StartsElsewhere w.object x cs (held named s x)
        → LeadsOn (hidden_beside w beside) no_ghosts cs (held named s x)
    path_open x [] from starts = tt
    path_open x (c ∷ cs) from starts =
        let v = held named s x in
        (in_sight (whole v), shown (whole v) (inside v c) (start_reached w reaches (places s) x c cs formal from starts))

    -- So does the way to a record that is copied.
    record_open :
        (x : ℕ) (cs : List ℕ) → IsCopiedFrom w.tracks.first reaches x cs → StartsElsewhere w.object x cs (held named s x)
        → LeadsOn (hidden_beside w beside) no_ghosts cs (held named s x)
    record_open x [] from starts = tt
    record_open x (c ∷ cs) from starts = path_open x (c ∷ cs) from starts

    -- The way to the object of the last component of a path leads over one that is not hidden.
    holder_open :
        (x : ℕ) (cs : List ℕ) → IsConfinedFrom w.tracks.first reaches x cs → HolderIsElsewhere w.object s.heap x cs (held named s x)
        → LeadsToHolder (hidden_beside w beside) no_ghosts cs (held named s x)
    holder_open x [] from elsewhere = tt
    holder_open x (c ∷ []) from elsewhere = tt
    holder_open x (c ∷ d ∷ cs) from elsewhere =
        let v = held named s x in
        let starts = holder_starts w.object s.heap x (c ∷ d ∷ cs) v elsewhere in
        (in_sight (whole v), shown (whole v) (inside v c) (start_reached w reaches (places s) x c (d ∷ cs) formal from starts))

    -- A Free looks at no hidden component as it begins (13.11.2).
    freed_open :
        (x : ℕ) (cs : List ℕ) → IsConfinedFrom w.tracks.first reaches x cs → FreedIsElsewhere w.object s.heap x cs (held named s x)
        → FreedIsOpen (hidden_beside w beside) no_ghosts s cs (held named s x)
    freed_open x [] from elsewhere = in_sight (held named s x)
    freed_open x (c ∷ cs) from elsewhere = holder_open x (c ∷ cs) from elsewhere

    -- What a component holds may be looked for.
    may_be_sought : (found : Option Value) → MayBeSought no_ghosts found
    may_be_sought None = tt
    may_be_sought (Some v) = in_sight v

    may_be_freed : (c : ℕ) (found : Found (Cell Value)) → MayBeFreed no_ghosts c found
    may_be_freed c on_null = tt
    may_be_freed c on_gone = tt
    may_be_freed c on_other = tt
    may_be_freed c (finds cell) = may_be_sought (slice_get cell.values c)

    -- An expression reads no hidden component.
    expression_open :
        (e : ExpressionForm) → ExpressionIsConfined w.tracks.first reaches e → ExpressionLooksElsewhere w.object s e
        → ExpressionIsOpen (hidden_beside w beside) no_ghosts s e
    expression_open (reads path) confined looks = path_open path.root path.selectors confined looks
    expression_open (is_null equal path) confined looks = path_open path.root path.selectors confined looks
    expression_open e confined looks = tt

    -- The first of some items reads no hidden component.
    items_open :
        (items : List ItemForm) → ItemsAreConfined w.tracks.first reaches items → ItemsLookElsewhere w.object s items
        → ItemsAreOpen (hidden_beside w beside) no_ghosts s items
    items_open [] confined looks = tt
    items_open (item_of_path path ∷ is) confined looks = path_open path.root path.selectors confined.0 looks
    items_open (item_of_record p ∷ is) confined looks = record_open p.object.root p.object.selectors confined.0 looks
    items_open (i ∷ is) confined looks = tt

    -- What is assigned reads no hidden component.
    right_open :
        (right : RightForm) → RightIsConfined w.tracks.first reaches right → RightLooksElsewhere w.object s right
        → RightIsOpen (hidden_beside w beside) no_ghosts s right
    right_open (value_of path) confined looks = path_open path.root path.selectors confined looks
    right_open right confined looks = tt

    -- A statement looks at no hidden component as it begins.
    statements_open :
        (fs : StmtsForm) → StatementsAreConfined w.tracks.first reaches fs → StatementsLookElsewhere w.object s fs
        → StatementsAreOpen (hidden_beside w beside) no_ghosts s fs
    statements_open no_stmts confined looks = tt
    statements_open (a_stmt (assigns target right) fs) confined looks = holder_open target.root target.selectors confined.0.0 looks
    statements_open (a_stmt (assigns_record target items) fs) confined looks = record_open target.object.root target.object.selectors confined.0.0 looks
    statements_open (a_stmt (frees access path) fs) confined looks = freed_open path.root path.selectors confined.0 looks
    statements_open (a_stmt (gets target) fs) confined looks = holder_open target.root target.selectors confined.0 looks
    statements_open (a_stmt f fs) confined looks = tt

    -- Components are followed from an operand that leads elsewhere.
    followed_open : (awaits : Bool) (cs : List ℕ) (v : Value) → LeadsElsewhere w.object s.heap awaits cs v → IsOpen (hidden_beside w beside) no_ghosts cs v
    followed_open awaits [] v leads = tt
    followed_open awaits (c ∷ cs) v leads = (in_sight v, shown_other v c leads.0)

    -- The components of a record are not hidden that lies in an object to which a value leads: if that is the object, they do not lie beside the record.
    record_within :
        (v : Value) (first count : ℕ) → (leads_to w.object v ≡ true → AreNoneOf beside first count) → AreShown (hidden_beside w beside) v first count
    record_within v first count none i lt = elim (false_or_true (leads_to w.object v)) [
      | inl other ↦ shown_other v (first + i) other
      | inr itself ↦ shown_apart v (first + i) (none itself i lt)
    ]

    -- Such a record is copied.
    copied_open :
        (v : Value) (first count : ℕ) → (leads_to w.object v ≡ true → AreNoneOf beside first count)
        → IsInSight no_ghosts v × AreShown (hidden_beside w beside) v first count
    copied_open v first count none = (in_sight v, record_within v first count none)

    -- A frame looks at no hidden component.
    frame_open :
        (f : Frame Value) (k : List (Frame Value)) → FrameIsConfined w reaches f → NextLooksElsewhere w.object s f k → FrameCopiesNone types w.object beside s f
        → OperandsAreConfined w reaches Running (f ∷ k) (operands s) → TreatsNone f → TakesNone f s.masters → FrameIsOpen types (hidden_beside w beside) no_ghosts s f
    frame_open (frame.Does fs) k confined looks copies reached untreated none = statements_open fs confined looks.1
    frame_open (frame.Leaves mode) k confined looks copies reached untreated none = innermost_no_ghost s.heap s.masters none
    frame_open (frame.Evaluates right) k confined looks copies reached untreated none = right_open right confined looks.1
    frame_open (frame.Computes e) k confined looks copies reached untreated none = expression_open e confined looks.1
    frame_open (frame.Follows cs) k confined looks copies reached untreated none = followed_open (awaits_holder k) cs (newest named s) looks
    frame_open (frame.Refers p) k confined looks copies reached untreated none = absurd confined
    frame_open (frame.RefersIn place t) k confined looks copies reached untreated none = absurd confined
    frame_open (frame.Opens path) k confined looks copies reached untreated none = absurd confined
    frame_open (frame.OpensIn c) k confined looks copies reached untreated none = absurd confined
    frame_open (frame.Fills items) k confined looks copies reached untreated none = items_open items confined looks.1
    frame_open (frame.Copies c t) k confined looks copies reached untreated none = copied_open (newest named s) c (width_of types t) copies
    frame_open (frame.Targets c right) k confined looks copies reached untreated none = in_sight (newest named s)
    frame_open (frame.StoresIn v c) k confined looks copies reached untreated none = in_sight v
    frame_open (frame.TargetsRecord c t items) k confined looks copies reached untreated none = in_sight (newest named s)
    frame_open (frame.StoresRecord v c count) k confined looks copies reached untreated none = in_sight v
    frame_open (frame.Receives c) k confined looks copies reached untreated none = in_sight (newest named s)
    frame_open (frame.FreesIn access c) k confined looks copies reached untreated none =
        ((in_sight (newest named s), shown (newest named s) c reached), may_be_freed c (look s.heap (newest named s)))
    frame_open (frame.Treats v treatment tasks) k confined looks copies reached untreated none = absurd untreated
    frame_open (frame.Awaits v by done of part tasks) k confined looks copies reached untreated none = absurd confined
    frame_open (frame.Ends v) k confined looks copies reached untreated none = in_sight v
    frame_open (frame.GivesBack v cause pool) k confined looks copies reached untreated none = in_sight v
    frame_open (frame.ClearsIn v c) k confined looks copies reached untreated none = in_sight v
    frame_open f k confined looks copies reached untreated none = tt

    -- A jump looks at no object.
    jump_open : (f : Frame Value) → JumpIsOpen (hidden_beside w beside) no_ghosts s f
    jump_open (frame.Awaits v by done of part tasks) = in_sight v
    jump_open f = tt

    -- The first of what is left to do looks at no hidden component, in any mode.
    first_open :
        (m : Mode) (k : List (Frame Value)) → BodyIsConfined w reaches k → FirstLooksElsewhere w.object s m k → FirstCopiesNone types w.object beside s m k
        → OperandsAreConfined w reaches m k (operands s) → IsWithin k s.masters → FirstIsOpen types (hidden_beside w beside) no_ghosts s m k
    first_open Running [] confined looks copies reached within = tt
    first_open Running (f ∷ k) confined looks copies reached within =
        frame_open f k (unless_it_ends (is_return f) (FrameIsConfined w reaches f × BodyIsConfined w reaches k) within.0 confined).0 looks copies reached within.1 within.2
    first_open (Raising e) [] confined looks copies reached within = tt
    first_open (Raising e) (f ∷ k) confined looks copies reached within = jump_open f
    first_open Exiting [] confined looks copies reached within = tt
    first_open Exiting (f ∷ k) confined looks copies reached within = jump_open f
    first_open Returning [] confined looks copies reached within = tt
    first_open Returning (f ∷ k) confined looks copies reached within = jump_open f

    -- A frame writes no hidden component.
    frame_shown :
        (f : Frame Value) (k : List (Frame Value)) → FrameIsConfined w reaches f → FrameCopiesNone types w.object beside s f
        → OperandsAreConfined w reaches Running (f ∷ k) (operands s) → FrameWritesShown (hidden_beside w beside) s f
    frame_shown (frame.StoresIn v c) k confined copies reached = shown v c confined
    frame_shown (frame.StoresRecord v c count) k confined copies reached = record_within v c count copies
    frame_shown (frame.Receives c) k confined copies reached = shown (newest named s) c reached
    frame_shown (frame.ClearsIn v c) k confined copies reached = shown v c confined
    frame_shown f k confined copies reached = tt

    -- The first of what is left to do writes no hidden component, in any mode.
    first_shown :
        (m : Mode) (k : List (Frame Value)) → BodyIsConfined w reaches k → FirstCopiesNone types w.object beside s m k
        → OperandsAreConfined w reaches m k (operands s) → IsWithin k s.masters → FirstWritesShown (hidden_beside w beside) s m k
    first_shown Running [] confined copies reached within = tt
    first_shown Running (f ∷ k) confined copies reached within =
        frame_shown f k (unless_it_ends (is_return f) (FrameIsConfined w reaches f × BodyIsConfined w reaches k) within.0 confined).0 copies reached
    first_shown (Raising e) [] confined copies reached within = tt
    first_shown (Raising e) (f ∷ k) confined copies reached within = tt
    first_shown Exiting [] confined copies reached within = tt
    first_shown Exiting (f ∷ k) confined copies reached within = tt
    first_shown Returning [] confined copies reached within = tt
    first_shown Returning (f ∷ k) confined copies reached within = tt

  -- The next step of a confined body looks at no hidden component.
  pub untouched :
      (s : State) → IsWatched w (places s) s.heap → LooksElsewhere w s → CopiesNone types w.object beside s → IsWithin s.control s.masters
      → IsConfined w reaches s → Untouched types (hidden_beside w beside) no_ghosts s
  untouched s p looks copies within confined = first_open s p.formal s.mode s.control confined.control looks copies confined.operands within

  -- The next step of a confined body writes no hidden component.
  pub unwritten :
      (s : State) → IsWatched w (places s) s.heap → CopiesNone types w.object beside s → IsWithin s.control s.masters → IsConfined w reaches s
      → Unwritten (hidden_beside w beside) s
  unwritten s p copies within confined = first_shown s p.formal s.mode s.control confined.control copies confined.operands within
