-- What a frame does, where no jump is on its way.

use Rattle.std.proofs.Common.{◌≡◌, ℕ, List, ◌∷◌, Option, Some, None, refl, sym, ap, subst}
use Rattle.ada_program.specs.declared.program.TypeDefinition.{TypeDefinition}
use Rattle.ada_program.specs.ProgramForm.{BodyForm}
use Rattle.ada_program.specs.Typed.{words_of, width_of}
use Rattle.ada_meaning.specs.declared.state.Mode.TheVariants.{Running}
use Rattle.ada_meaning.specs.declared.state.Value.{Value}
use Rattle.ada_meaning.specs.declared.state.Value.TheVariants.{Null}
use Rattle.ada_meaning.specs.Event.{Quiet}
use Rattle.ada_meaning.specs.Frame.{Frame}
use Rattle.ada_meaning.specs.Frame as frame
use Rattle.ada_meaning.specs.State.{Activation, declared, home_of}
use Rattle.ada_meaning.specs.Step.{at, older, first_or, put, popped, newest, owned, frame_next}
use Rattle.ada_meaning.specs.Named.{State, Next, named, reads_integer, reads_boolean, reads_null, next}
use Rattle.ada_tracked.specs.Frames.{View, number_in, stored_as, cleared_as, seen_frame, seen_control}
use Rattle.ada_tracked.specs.Simple.{FrameIsSimple}
use Rattle.ada_tracked.specs.Seen.{HoldersAreOther, seen_state, IsWatched}
use Rattle.ada_tracked.specs.Looking.{NextLooksElsewhere}
use Rattle.ada_tracked.specs.Copying.{FrameCopiesNone, is_tracked_at}
use Rattle.ada_tracked.specs.Law.{TakesNone, same, Shown}
use Rattle.ada_tracked.proofs.Found.{running, idly, path_shown, copies_shown}
use Rattle.ada_tracked.proofs.Evaluations.{expression_shown, null_test_shown, links_shown, unary_shown, binary_shown, items_shown, right_shown, new_shown}
use Rattle.ada_tracked.proofs.Storing.{steps, put_seen, inside_places, seen_store, store_in_shown, target_shown}
use Rattle.ada_tracked.proofs.Freeing.{receive_shown, free_in_shown, end_shown, back_shown, leave_shown}
use Rattle.ada_tracked.proofs.Wholes.{record_target_shown, store_record_shown}
use Rattle.ada_tracked.proofs.Statements.{decided_shown, repeats_shown, turned_shown, counts_shown, ranges_shown, exited_shown, line_shown, stmts_shown, declarations_shown}

module _ (types : List TypeDefinition) (bodies : List BodyForm) (w : View) where
  stored_frame : (number : Option ℕ) (v : Value) (c : ℕ) (z : State) → frame_next named types bodies (stored_as number v c) z ≡ seen_store types bodies w number v c (newest named z) (popped z)
  stored_frame None v c z = refl
  stored_frame (Some x) v c z = refl

  cleared_frame : (number : Option ℕ) (v : Value) (c : ℕ) (z : State) → frame_next named types bodies (cleared_as number v c) z ≡ seen_store types bodies w number v c Null z
  cleared_frame None v c z = refl
  cleared_frame (Some x) v c z = refl

  pub frame_shown : (f : Frame Value) (k : List (Frame Value)) (a : Activation Value) (rest : List (Activation Value)) (s : State) → FrameIsSimple w.tracks.first f → TakesNone f s.masters → IsWatched w a.places s.heap → NextLooksElsewhere w.object (at (f ∷ k) (running a rest s)) f k → FrameCopiesNone types w.object (is_tracked_at w) (at (f ∷ k) (running a rest s)) f → HoldersAreOther w.object Running (f ∷ k) a.operands → Shown types bodies w (seen_state w (at (f ∷ k) (running a rest s))) (frame_next named types bodies f (at k (running a rest s))) (frame_next named types bodies (seen_frame w f) (seen_state w (at k (running a rest s))))
  unfolding next
  frame_shown (frame.Elaborates ds fs hs) k a rest s simple none p looks copies others =
      declarations_shown types bodies w (seen_state w (at (frame.Elaborates ds fs hs ∷ k) (running a rest s))) ds fs hs a rest (at k s) simple.0
  frame_shown (frame.Does fs) k a rest s simple none p looks copies others = stmts_shown types bodies w fs k a rest s simple p looks.1 copies looks.0
  frame_shown (frame.Decides fs branches) k a rest s simple none p looks copies others =
      decided_shown types bodies w (seen_state w (at (frame.Decides fs branches ∷ k) (running a rest s))) fs branches (reads_boolean (first_or Null a.operands))
      (record a { operands = older a.operands }) rest (at k s)
  frame_shown (frame.Repeats condition fs) k a rest s simple none p looks copies others =
      repeats_shown types bodies w (seen_state w (at (frame.Repeats condition fs ∷ k) (running a rest s))) condition fs a rest (at k s)
  frame_shown (frame.Turns condition fs) k a rest s simple none p looks copies others =
      turned_shown types bodies w (seen_state w (at (frame.Turns condition fs ∷ k) (running a rest s))) condition fs (reads_boolean (first_or Null a.operands))
      (record a { operands = older a.operands }) rest (at k s) looks.0
  frame_shown (frame.Ranges x fs) k a rest s simple none p looks copies others =
      ranges_shown types bodies w (seen_state w (at (frame.Ranges x fs ∷ k) (running a rest s))) x fs (reads_integer (first_or Null (older a.operands))) (reads_integer (first_or Null a.operands))
      (record a { operands = older (older a.operands) }) rest (at k s) simple.0 p looks.0
  frame_shown (frame.Counts x value last fs) k a rest s simple none p looks copies others =
      counts_shown types bodies w (seen_state w (at (frame.Counts x value last fs ∷ k) (running a rest s))) x value last fs a rest (at k s) simple.0 p looks.0
  frame_shown frame.Exits k a rest s simple none p looks copies others =
      exited_shown types bodies w (seen_state w (at (frame.Exits ∷ k) (running a rest s))) (reads_boolean (first_or Null a.operands))
      (record a { operands = older a.operands }) rest (at k s) looks.0
  frame_shown (frame.Handles hs) k a rest s simple none p looks copies others =
      idly types bodies w (seen_state w (at (frame.Handles hs ∷ k) (running a rest s))) Quiet (at k (running a rest s)) looks.0
  frame_shown frame.Closes k a rest s simple none p looks copies others =
      idly types bodies w (seen_state w (at (frame.Closes ∷ k) (running a rest s))) Quiet (at (frame.Leaves Running ∷ k) (running a rest s)) refl
  frame_shown (frame.Leaves mode) k a rest s simple none p looks copies others =
      leave_shown types bodies w (seen_state w (at (frame.Leaves mode ∷ k) (running a rest s))) mode s.masters a rest (at k s) none looks.0
  frame_shown (frame.Calls procedure b actuals) k a rest s simple none p looks copies others = absurd simple
  frame_shown (frame.Returns actuals references) k a rest s simple none p looks copies others = absurd simple
  frame_shown (frame.Evaluates right) k a rest s simple none p looks copies others =
      right_shown types bodies w (seen_state w (at (frame.Evaluates right ∷ k) (running a rest s))) right a rest (at k s) simple p looks.1 looks.0
      (seen_control w (frame.Evaluates right ∷ k), a.operands, refl, refl)
  frame_shown (frame.Computes e) k a rest s simple none p looks copies others =
      expression_shown types bodies w (seen_state w (at (frame.Computes e ∷ k) (running a rest s))) e a rest (at k s) simple p looks.1 looks.0
      (seen_control w (frame.Computes e ∷ k), a.operands, refl, refl)
  frame_shown (frame.Follows cs) k a rest s simple none p looks copies others =
      path_shown types bodies w (seen_state w (at (frame.Follows cs ∷ k) (running a rest s))) cs (first_or Null a.operands)
      (record a { operands = older a.operands }) rest (at k s) p looks
  frame_shown (frame.TestsNull equal) k a rest s simple none p looks copies others =
      null_test_shown types bodies w (seen_state w (at (frame.TestsNull equal ∷ k) (running a rest s))) equal (reads_null (first_or Null a.operands))
      (record a { operands = older a.operands }) rest (at k s) looks.0
  frame_shown (frame.Refers q) k a rest s simple none p looks copies others = absurd simple
  frame_shown (frame.RefersIn place record_type) k a rest s simple none p looks copies others = absurd simple
  frame_shown (frame.Opens path) k a rest s simple none p looks copies others = absurd simple
  frame_shown (frame.OpensIn c) k a rest s simple none p looks copies others = absurd simple
  frame_shown (frame.Continues links) k a rest s simple none p looks copies others =
      links_shown types bodies w (seen_state w (at (frame.Continues links ∷ k) (running a rest s))) links a rest (at k s) looks.0
  frame_shown (frame.Applies operator) k a rest s simple none p looks copies others =
      binary_shown types bodies w (seen_state w (at (frame.Applies operator ∷ k) (running a rest s))) operator (first_or Null (older a.operands)) (first_or Null a.operands)
      (record a { operands = older (older a.operands) }) rest (at k s) looks.0
  frame_shown (frame.AppliesAlone operator) k a rest s simple none p looks copies others =
      unary_shown types bodies w (seen_state w (at (frame.AppliesAlone operator ∷ k) (running a rest s))) operator (first_or Null a.operands)
      (record a { operands = older a.operands }) rest (at k s) looks.0
  frame_shown (frame.Fills items) k a rest s simple none p looks copies others =
      items_shown types bodies w (seen_state w (at (frame.Fills items ∷ k) (running a rest s))) items a rest (at k s) simple p looks.1 looks.0
      (seen_control w (frame.Fills items ∷ k), a.operands, refl, refl)
  frame_shown (frame.Copies c record_type) k a rest s simple none p looks copies others =
      copies_shown types bodies w (seen_state w (at (frame.Copies c record_type ∷ k) (running a rest s))) (first_or Null a.operands) c
      (width_of types record_type) (record a { operands = older a.operands }) rest (at k s) copies p looks.0
  frame_shown (frame.Creates access count) k a rest s simple none p looks copies others =
      new_shown types bodies w (seen_state w (at (frame.Creates access count ∷ k) (running a rest s))) access count (words_of types access) (home_of access s.masters) a rest (at k s) p looks.0
  frame_shown (frame.Stores x) k a rest s simple none p looks copies others =
      steps types bodies w (seen_state w (at (frame.Stores x ∷ k) (running a rest s))) Quiet Quiet
      (put x (first_or Null a.operands) (at k (running (record a { operands = older a.operands }) rest s)))
      (put x (first_or Null a.operands) (seen_state w (at k (running (record a { operands = older a.operands }) rest s)))) (same refl) looks.0
      (put_seen types bodies w x (first_or Null a.operands) (record a { operands = older a.operands }) rest (at k s) (inside_places types bodies w x a.places s.heap p simple.1))
  frame_shown (frame.Targets c right) k a rest s simple none p looks copies others =
      target_shown types bodies w (seen_state w (at (frame.Targets c right ∷ k) (running a rest s))) (first_or Null a.operands) c right
      (record a { operands = older a.operands }) rest (at k s) others p
  frame_shown (frame.StoresIn v c) k a rest s simple none p looks copies others =
      subst (λ (n : Next). Shown types bodies w (seen_state w (at (frame.StoresIn v c ∷ k) (running a rest s))) (frame_next named types bodies (frame.StoresIn v c) (at k (running a rest s))) n)
      (sym (stored_frame (number_in w v c) v c (seen_state w (at k (running a rest s)))))
      (store_in_shown types bodies w (seen_state w (at (frame.StoresIn v c ∷ k) (running a rest s))) v c (first_or Null a.operands)
      (record a { operands = older a.operands }) rest (at k s) p looks.0)
  frame_shown (frame.TargetsRecord c record_type items) k a rest s simple none p looks copies others =
      record_target_shown types bodies w (seen_state w (at (frame.TargetsRecord c record_type items ∷ k) (running a rest s))) (first_or Null a.operands) c
      (width_of types record_type) items (record a { operands = older a.operands }) rest (at k s) p
  frame_shown (frame.StoresRecord v c count) k a rest s simple none p looks copies others =
      store_record_shown types bodies w (seen_state w (at (frame.StoresRecord v c count ∷ k) (running a rest s))) v c count a rest (at k s) copies p looks.0
  frame_shown (frame.Assigns record_type) k a rest s simple none p looks copies others = absurd simple
  frame_shown (frame.Receives c) k a rest s simple none p looks copies others =
      receive_shown types bodies w (seen_state w (at (frame.Receives c ∷ k) (running a rest s))) (first_or Null a.operands) c
      (record a { operands = older a.operands }) rest (at k s) others p looks.0
  frame_shown (frame.FreesIn access c) k a rest s simple none p looks copies others =
      free_in_shown types bodies w (seen_state w (at (frame.FreesIn access c ∷ k) (running a rest s))) access (first_or Null a.operands) c
      (record a { operands = older a.operands }) rest (at k s) others looks.1 p looks.0
  frame_shown (frame.Declares x) k a rest s simple none p looks copies others =
      steps types bodies w (seen_state w (at (frame.Declares x ∷ k) (running a rest s))) Quiet Quiet
      (owned (declared x) (put x (first_or Null a.operands) (at k (running (record a { operands = older a.operands }) rest s))))
      (owned (declared x) (put x (first_or Null a.operands) (seen_state w (at k (running (record a { operands = older a.operands }) rest s))))) (same refl) looks.0
      (ap (owned (declared x)) (put_seen types bodies w x (first_or Null a.operands) (record a { operands = older a.operands }) rest (at k s) (inside_places types bodies w x a.places s.heap p simple.1)))
  frame_shown (frame.DeclaresRecord x record_type) k a rest s simple none p looks copies others = absurd simple
  frame_shown (frame.Treats v treatment tasks) k a rest s simple none p looks copies others = absurd simple
  frame_shown (frame.Awaits v by done of part tasks) k a rest s simple none p looks copies others = absurd simple
  frame_shown frame.Confines k a rest s simple none p looks copies others = absurd simple
  frame_shown (frame.Resumes mode) k a rest s simple none p looks copies others = absurd simple
  frame_shown frame.Writes k a rest s simple none p looks copies others =
      line_shown types bodies w (seen_state w (at (frame.Writes ∷ k) (running a rest s))) (reads_integer (first_or Null a.operands))
      (record a { operands = older a.operands }) rest (at k s) looks.0
  frame_shown (frame.Ends v) k a rest s simple none p looks copies others =
      end_shown types bodies w (seen_state w (at (frame.Ends v ∷ k) (running a rest s))) v a rest (at k s) p looks.0
  frame_shown (frame.GivesBack v cause pool) k a rest s simple none p looks copies others =
      back_shown types bodies w (seen_state w (at (frame.GivesBack v cause pool ∷ k) (running a rest s))) v cause pool a rest (at k s) p looks.0
  frame_shown (frame.Clears x) k a rest s simple none p looks copies others =
      steps types bodies w (seen_state w (at (frame.Clears x ∷ k) (running a rest s))) Quiet Quiet (put x Null (at k (running a rest s)))
      (put x Null (seen_state w (at k (running a rest s)))) (same refl) looks.0 (put_seen types bodies w x Null a rest (at k s) (inside_places types bodies w x a.places s.heap p simple.1))
  frame_shown (frame.ClearsIn v c) k a rest s simple none p looks copies others =
      subst (λ (n : Next). Shown types bodies w (seen_state w (at (frame.ClearsIn v c ∷ k) (running a rest s))) (frame_next named types bodies (frame.ClearsIn v c) (at k (running a rest s))) n)
      (sym (cleared_frame (number_in w v c) v c (seen_state w (at k (running a rest s)))))
      (store_in_shown types bodies w (seen_state w (at (frame.ClearsIn v c ∷ k) (running a rest s))) v c Null a rest (at k s) p looks.0)
