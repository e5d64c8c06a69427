-- Each step of a body is one of what stands for it, or leaves that as it is.

use Rattle.std.proofs.Common.{◌≡◌, ℕ, List, [], ◌∷◌, Some, None, refl, sym, ◌∙◌, subst}
use Rattle.ada_text.specs.declared.spot.Spot.{Spot}
use Rattle.ada_program.specs.declared.program.TypeDefinition.{TypeDefinition}
use Rattle.ada_program.specs.Form.{ActualForm, StmtsForm, a_stmt}
use Rattle.ada_program.specs.ProgramForm.{BodyForm}
use Rattle.ada_meaning.specs.declared.state.Mode.{Mode}
use Rattle.ada_meaning.specs.declared.state.Mode.TheVariants.{Running, Raising, Exiting, Returning}
use Rattle.ada_meaning.specs.declared.state.Value.{Value}
use Rattle.ada_meaning.specs.declared.state.Value.TheVariants.{Null, Names}
use Rattle.ada_meaning.specs.Frame.{Frame, is_return}
use Rattle.ada_meaning.specs.Frame as frame
use Rattle.ada_meaning.specs.State.{Activation}
use Rattle.ada_meaning.specs.Step.{at, first_or, older, places, places_of, operands_of, frame_next, mode_next}
use Rattle.ada_meaning.specs.Named.{State, Next, named, next}
use Rattle.ada_tracked.specs.Forms.{seen_stmts}
use Rattle.ada_tracked.specs.Frames.{View, number_of, seen_frame, seen_control, standing}
use Rattle.ada_tracked.specs.Simple.{FrameIsSimple}
use Rattle.ada_tracked.specs.Seen.{HoldersAreOther, seen_state, Waiting, assigning, getting, freeing, waiting_frame, waiting_statement, variable_path, Seen, plainly, following, elsewhere, behind, IsWatched}
use Rattle.ada_tracked.specs.Looking.{LooksElsewhere}
use Rattle.ada_tracked.specs.Copying.{CopiesNone, is_tracked_at}
use Rattle.ada_tracked.specs.Law.{NextIsSimple, Shown, TrackedComponentsRunAsVariables}
use Rattle.ada_tracked.proofs.Found.{running, path_shown}
use Rattle.ada_tracked.proofs.Storing.{target_elsewhere, target_behind}
use Rattle.ada_tracked.proofs.Freeing.{receive_elsewhere, receive_behind, free_elsewhere, free_behind}
use Rattle.ada_tracked.proofs.Steps.{frame_shown}
use Rattle.ada_tracked.proofs.Jumps.{jump_at, jump_shown}

-- A state by its parts.
abbrev of_parts : Mode → List (Activation Value) → List (Frame Value) → State → State
of_parts m activations k s = record s { mode = m; activations = activations; control = k }

-- What is seen of a frame that is no end of a call, and of what is behind it.
seen_first : (w : View) (f : Frame Value) (k : List (Frame Value)) → FrameIsSimple w.tracks.first f → seen_control w (f ∷ k) ≡ seen_frame w f ∷ seen_control w k
seen_first w (frame.Elaborates ds fs hs) k simple = refl
seen_first w (frame.Does fs) k simple = refl
seen_first w (frame.Decides fs branches) k simple = refl
seen_first w (frame.Repeats condition fs) k simple = refl
seen_first w (frame.Turns condition fs) k simple = refl
seen_first w (frame.Ranges x fs) k simple = refl
seen_first w (frame.Counts x value last fs) k simple = refl
seen_first w frame.Exits k simple = refl
seen_first w (frame.Handles hs) k simple = refl
seen_first w frame.Closes k simple = refl
seen_first w (frame.Leaves mode) k simple = refl
seen_first w (frame.Calls procedure b actuals) k simple = absurd simple
seen_first w (frame.Returns actuals references) k simple = absurd simple
seen_first w (frame.Evaluates right) k simple = refl
seen_first w (frame.Computes e) k simple = refl
seen_first w (frame.Follows cs) k simple = refl
seen_first w (frame.TestsNull equal) k simple = refl
seen_first w (frame.Refers p) k simple = absurd simple
seen_first w (frame.RefersIn place record_type) k simple = absurd simple
seen_first w (frame.Opens path) k simple = absurd simple
seen_first w (frame.OpensIn c) k simple = absurd simple
seen_first w (frame.Continues links) k simple = refl
seen_first w (frame.Applies operator) k simple = refl
seen_first w (frame.AppliesAlone operator) k simple = refl
seen_first w (frame.Fills items) k simple = refl
seen_first w (frame.Copies c record_type) k simple = refl
seen_first w (frame.Creates access count) k simple = refl
seen_first w (frame.Stores x) k simple = refl
seen_first w (frame.Targets c right) k simple = refl
seen_first w (frame.StoresIn o c) k simple = refl
seen_first w (frame.TargetsRecord c record_type items) k simple = refl
seen_first w (frame.StoresRecord o c count) k simple = refl
seen_first w (frame.Assigns record_type) k simple = absurd simple
seen_first w (frame.Receives c) k simple = refl
seen_first w (frame.FreesIn access c) k simple = refl
seen_first w (frame.Declares x) k simple = refl
seen_first w (frame.DeclaresRecord x record_type) k simple = absurd simple
seen_first w (frame.Treats v treatment tasks) k simple = absurd simple
seen_first w (frame.Awaits v by done of part tasks) k simple = absurd simple
seen_first w frame.Confines k simple = absurd simple
seen_first w (frame.Resumes mode) k simple = absurd simple
seen_first w frame.Writes k simple = refl
seen_first w (frame.Ends v) k simple = refl
seen_first w (frame.GivesBack v cause pool) k simple = refl
seen_first w (frame.Clears x) k simple = refl
seen_first w (frame.ClearsIn o c) k simple = refl

module _ (types : List TypeDefinition) (bodies : List BodyForm) (w : View) where
  -- Where the state stands plainly.
  plainly_by : (m : Mode) (a : Activation Value) (rest : List (Activation Value)) (k : List (Frame Value)) (s : State) → IsWatched w a.places s.heap → NextIsSimple w k s.masters → LooksElsewhere w (of_parts m (a ∷ rest) k s) → CopiesNone types w.object (is_tracked_at w) (of_parts m (a ∷ rest) k s) → HoldersAreOther w.object m k a.operands → Shown types bodies w (seen_state w (of_parts m (a ∷ rest) k s)) (next types bodies (of_parts m (a ∷ rest) k s)) (next types bodies (seen_state w (of_parts m (a ∷ rest) k s)))
  unfolding next
  plainly_by Running a rest [] s p simple looks copies others = refl
  plainly_by Running a rest (f ∷ k) s p simple looks copies others =
      subst (λ (l : List (Frame Value)). Shown types bodies w (seen_state w (at (f ∷ k) (running a rest s))) (frame_next named types bodies f (at k (running a rest s))) (mode_next named types bodies Running (at l (seen_state w (running a rest s)))))
      (sym (seen_first w f k simple.0)) (frame_shown types bodies w f k a rest s simple.0 simple.1 p looks copies others)
  plainly_by (Raising e) a rest [] s p simple looks copies others = refl
  plainly_by (Raising e) a rest (f ∷ k) s p simple looks copies others =
      subst (λ (l : List (Frame Value)). Shown types bodies w (seen_state w (of_parts (Raising e) (a ∷ rest) (f ∷ k) s)) (jump_at (Raising e) f (of_parts (Raising e) (a ∷ rest) k s)) (mode_next named types bodies (Raising e) (at l (seen_state w (of_parts (Raising e) (a ∷ rest) k s)))))
      (sym (seen_first w f k simple.0)) (jump_shown types bodies w (seen_state w (of_parts (Raising e) (a ∷ rest) (f ∷ k) s)) (Raising e) f a rest (of_parts (Raising e) (a ∷ rest) k s) simple.0 looks)
  plainly_by Exiting a rest [] s p simple looks copies others = refl
  plainly_by Exiting a rest (f ∷ k) s p simple looks copies others =
      subst (λ (l : List (Frame Value)). Shown types bodies w (seen_state w (of_parts Exiting (a ∷ rest) (f ∷ k) s)) (jump_at Exiting f (of_parts Exiting (a ∷ rest) k s)) (mode_next named types bodies Exiting (at l (seen_state w (of_parts Exiting (a ∷ rest) k s)))))
      (sym (seen_first w f k simple.0)) (jump_shown types bodies w (seen_state w (of_parts Exiting (a ∷ rest) (f ∷ k) s)) Exiting f a rest (of_parts Exiting (a ∷ rest) k s) simple.0 looks)
  plainly_by Returning a rest [] s p simple looks copies others = refl
  plainly_by Returning a rest (f ∷ k) s p simple looks copies others =
      subst (λ (l : List (Frame Value)). Shown types bodies w (seen_state w (of_parts Returning (a ∷ rest) (f ∷ k) s)) (jump_at Returning f (of_parts Returning (a ∷ rest) k s)) (mode_next named types bodies Returning (at l (seen_state w (of_parts Returning (a ∷ rest) k s)))))
      (sym (seen_first w f k simple.0)) (jump_shown types bodies w (seen_state w (of_parts Returning (a ∷ rest) (f ∷ k) s)) Returning f a rest (of_parts Returning (a ∷ rest) k s) simple.0 looks)

  plainly_shown : (activations : List (Activation Value)) (s : State) → IsWatched w (places_of activations) s.heap → NextIsSimple w s.control s.masters → LooksElsewhere w (record s { activations = activations }) → CopiesNone types w.object (is_tracked_at w) (record s { activations = activations }) → HoldersAreOther w.object s.mode s.control (operands_of activations) → Shown types bodies w (seen_state w (record s { activations = activations })) (next types bodies (record s { activations = activations })) (next types bodies (seen_state w (record s { activations = activations })))
  plainly_shown [] s p simple looks copies others = absurd p.formal
  plainly_shown (a ∷ rest) s p simple looks copies others = plainly_by s.mode a rest s.control s p simple looks copies others

  -- Where the real state has found a value already.
  following_by : (t : State) (c : ℕ) (cs : List ℕ) (k : List (Frame Value)) (activations : List (Activation Value)) (s : State) → IsWatched w (places_of activations) s.heap → LooksElsewhere w (of_parts Running activations (frame.Follows (c ∷ cs) ∷ k) s) → Shown types bodies w t (next types bodies (of_parts Running activations (frame.Follows (c ∷ cs) ∷ k) s)) (next types bodies (seen_state w (of_parts Running activations (frame.Follows (c ∷ cs) ∷ k) s)))
  unfolding next
  following_by t c cs k [] s p looks = absurd p.formal
  following_by t c cs k (a ∷ rest) s p looks =
      path_shown types bodies w t (c ∷ cs) (first_or Null a.operands) (record a { operands = older a.operands }) rest (at k s) p looks

  following_shown : (t : State) (c : ℕ) (cs : List ℕ) (k : List (Frame Value)) (m : Mode) (control : List (Frame Value)) (s : State) → m ≡ Running → control ≡ frame.Follows (c ∷ cs) ∷ k → IsWatched w (places s) s.heap → LooksElsewhere w (record s { mode = m; control = control }) → Shown types bodies w t (next types bodies (record s { mode = m; control = control })) (next types bodies (seen_state w (record s { mode = m; control = control })))
  following_shown t c cs k m control s running_is control_is p =
      subst (λ (mode : Mode). LooksElsewhere w (record s { mode = mode; control = control }) → Shown types bodies w t (next types bodies (record s { mode = mode; control = control })) (next types bodies (seen_state w (record s { mode = mode; control = control })))) (sym running_is)
      (subst (λ (l : List (Frame Value)). LooksElsewhere w (record s { mode = Running; control = l }) → Shown types bodies w t (next types bodies (record s { mode = Running; control = l })) (next types bodies (seen_state w (record s { mode = Running; control = l })))) (sym control_is)
      (following_by t c cs k s.activations s p))

  -- Where a component of the object is waited for.
  elsewhere_by : (waiting : Waiting) (c : ℕ) (k : List (Frame Value)) (vs : List Value) (a : Activation Value) (rest : List (Activation Value)) (s : State) → IsWatched w a.places s.heap → number_of w c ≡ None → LooksElsewhere w (of_parts Running (record a { operands = Names w.object ∷ vs } ∷ rest) (waiting_frame waiting c ∷ k) s) → Shown types bodies w (seen_state w (of_parts Running (record a { operands = Names w.object ∷ vs } ∷ rest) (waiting_frame waiting c ∷ k) s)) (next types bodies (of_parts Running (record a { operands = Names w.object ∷ vs } ∷ rest) (waiting_frame waiting c ∷ k) s)) (next types bodies (seen_state w (of_parts Running (record a { operands = Names w.object ∷ vs } ∷ rest) (waiting_frame waiting c ∷ k) s)))
  unfolding next
  elsewhere_by (assigning right) c k vs a rest s p none looks =
      target_elsewhere types bodies w (seen_state w (of_parts Running (record a { operands = Names w.object ∷ vs } ∷ rest) (frame.Targets c right ∷ k) s)) c right (record a { operands = vs }) rest (at k s) none p
  elsewhere_by getting c k vs a rest s p none looks =
      receive_elsewhere types bodies w (seen_state w (of_parts Running (record a { operands = Names w.object ∷ vs } ∷ rest) (frame.Receives c ∷ k) s)) c (record a { operands = vs }) rest (at k s) none p looks.0
  elsewhere_by (freeing access) c k vs a rest s p none looks =
      free_elsewhere types bodies w (seen_state w (of_parts Running (record a { operands = Names w.object ∷ vs } ∷ rest) (frame.FreesIn access c ∷ k) s)) access c (record a { operands = vs }) rest (at k s) none looks.1 p looks.0

  elsewhere_shown : (waiting : Waiting) (c : ℕ) (k : List (Frame Value)) (vs : List Value) (m : Mode) (control : List (Frame Value)) (activations : List (Activation Value)) (s : State) → m ≡ Running → control ≡ waiting_frame waiting c ∷ k → operands_of activations ≡ Names w.object ∷ vs → IsWatched w (places_of activations) s.heap → number_of w c ≡ None → LooksElsewhere w (of_parts m activations control s) → Shown types bodies w (seen_state w (of_parts m activations control s)) (next types bodies (of_parts m activations control s)) (next types bodies (seen_state w (of_parts m activations control s)))
  elsewhere_shown waiting c k vs m control [] s running_is control_is operands_are p none = absurd p.formal
  elsewhere_shown waiting c k vs m control (a ∷ rest) s running_is control_is operands_are p none =
      subst (λ (mode : Mode). LooksElsewhere w (of_parts mode (a ∷ rest) control s) → Shown types bodies w (seen_state w (of_parts mode (a ∷ rest) control s)) (next types bodies (of_parts mode (a ∷ rest) control s)) (next types bodies (seen_state w (of_parts mode (a ∷ rest) control s)))) (sym running_is)
      (subst (λ (l : List (Frame Value)). LooksElsewhere w (of_parts Running (a ∷ rest) l s) → Shown types bodies w (seen_state w (of_parts Running (a ∷ rest) l s)) (next types bodies (of_parts Running (a ∷ rest) l s)) (next types bodies (seen_state w (of_parts Running (a ∷ rest) l s)))) (sym control_is)
      (subst (λ (us : List Value). LooksElsewhere w (of_parts Running (record a { operands = us } ∷ rest) (waiting_frame waiting c ∷ k) s) → Shown types bodies w (seen_state w (of_parts Running (record a { operands = us } ∷ rest) (waiting_frame waiting c ∷ k) s)) (next types bodies (of_parts Running (record a { operands = us } ∷ rest) (waiting_frame waiting c ∷ k) s)) (next types bodies (seen_state w (of_parts Running (record a { operands = us } ∷ rest) (waiting_frame waiting c ∷ k) s)))) (sym operands_are)
      (elsewhere_by waiting c k vs a rest s p none)))

  -- The state that is yet to begin the statement.
  abbrev beginning : Waiting → (x : ℕ) → Spot → StmtsForm → List (Frame Value) → List Value → State → State
  beginning waiting x spot fs k vs s = standing w s (frame.Does (a_stmt (waiting_statement w.tracks waiting (variable_path x spot)) (seen_stmts w.tracks fs)) ∷ seen_control w k) vs

  behind_by : (waiting : Waiting) (c x : ℕ) (spot : Spot) (fs : StmtsForm) (k : List (Frame Value)) (vs : List Value) (a : Activation Value) (rest : List (Activation Value)) (s : State) → IsWatched w a.places s.heap → number_of w c ≡ Some x → LooksElsewhere w (of_parts Running (record a { operands = Names w.object ∷ vs } ∷ rest) (waiting_frame waiting c ∷ frame.Does fs ∷ k) s) → Shown types bodies w (beginning waiting x spot fs k vs (of_parts Running (record a { operands = Names w.object ∷ vs } ∷ rest) (waiting_frame waiting c ∷ frame.Does fs ∷ k) s)) (next types bodies (of_parts Running (record a { operands = Names w.object ∷ vs } ∷ rest) (waiting_frame waiting c ∷ frame.Does fs ∷ k) s)) (next types bodies (beginning waiting x spot fs k vs (of_parts Running (record a { operands = Names w.object ∷ vs } ∷ rest) (waiting_frame waiting c ∷ frame.Does fs ∷ k) s)))
  unfolding next
  behind_by (assigning right) c x spot fs k vs a rest s p is looks =
      target_behind types bodies w (beginning (assigning right) x spot fs k vs (of_parts Running (record a { operands = Names w.object ∷ vs } ∷ rest) (frame.Targets c right ∷ frame.Does fs ∷ k) s)) c x right (record a { operands = vs }) rest (at (frame.Does fs ∷ k) s) is p
  behind_by getting c x spot fs k vs a rest s p is looks =
      receive_behind types bodies w (beginning getting x spot fs k vs (of_parts Running (record a { operands = Names w.object ∷ vs } ∷ rest) (frame.Receives c ∷ frame.Does fs ∷ k) s)) c x (record a { operands = vs }) rest (at (frame.Does fs ∷ k) s) is p refl
  behind_by (freeing access) c x spot fs k vs a rest s p is looks =
      free_behind types bodies w (beginning (freeing access) x spot fs k vs (of_parts Running (record a { operands = Names w.object ∷ vs } ∷ rest) (frame.FreesIn access c ∷ frame.Does fs ∷ k) s)) access c x (record a { operands = vs }) rest (at (frame.Does fs ∷ k) s) is looks.1 p refl

  behind_shown : (waiting : Waiting) (c x : ℕ) (spot : Spot) (fs : StmtsForm) (k : List (Frame Value)) (vs : List Value) (m : Mode) (control : List (Frame Value)) (activations : List (Activation Value)) (s : State) → m ≡ Running → control ≡ waiting_frame waiting c ∷ frame.Does fs ∷ k → operands_of activations ≡ Names w.object ∷ vs → IsWatched w (places_of activations) s.heap → number_of w c ≡ Some x → LooksElsewhere w (of_parts m activations control s) → Shown types bodies w (beginning waiting x spot fs k vs (of_parts m activations control s)) (next types bodies (of_parts m activations control s)) (next types bodies (beginning waiting x spot fs k vs (of_parts m activations control s)))
  behind_shown waiting c x spot fs k vs m control [] s running_is control_is operands_are p is = absurd p.formal
  behind_shown waiting c x spot fs k vs m control (a ∷ rest) s running_is control_is operands_are p is =
      subst (λ (mode : Mode). LooksElsewhere w (of_parts mode (a ∷ rest) control s) → Shown types bodies w (beginning waiting x spot fs k vs (of_parts mode (a ∷ rest) control s)) (next types bodies (of_parts mode (a ∷ rest) control s)) (next types bodies (beginning waiting x spot fs k vs (of_parts mode (a ∷ rest) control s)))) (sym running_is)
      (subst (λ (l : List (Frame Value)). LooksElsewhere w (of_parts Running (a ∷ rest) l s) → Shown types bodies w (beginning waiting x spot fs k vs (of_parts Running (a ∷ rest) l s)) (next types bodies (of_parts Running (a ∷ rest) l s)) (next types bodies (beginning waiting x spot fs k vs (of_parts Running (a ∷ rest) l s)))) (sym control_is)
      (subst (λ (us : List Value). LooksElsewhere w (of_parts Running (record a { operands = us } ∷ rest) (waiting_frame waiting c ∷ frame.Does fs ∷ k) s) → Shown types bodies w (beginning waiting x spot fs k vs (of_parts Running (record a { operands = us } ∷ rest) (waiting_frame waiting c ∷ frame.Does fs ∷ k) s)) (next types bodies (of_parts Running (record a { operands = us } ∷ rest) (waiting_frame waiting c ∷ frame.Does fs ∷ k) s)) (next types bodies (beginning waiting x spot fs k vs (of_parts Running (record a { operands = us } ∷ rest) (waiting_frame waiting c ∷ frame.Does fs ∷ k) s)))) (sym operands_are)
      (behind_by waiting c x spot fs k vs a rest s p is)))

  step_shown : (s t : State) → Seen types bodies w s t → IsWatched w (places s) s.heap → LooksElsewhere w s → CopiesNone types w.object (is_tracked_at w) s → NextIsSimple w s.control s.masters → Shown types bodies w t (next types bodies s) (next types bodies t)
  step_shown s t (plainly others is) p looks copies simple =
      subst (λ (u : State). Shown types bodies w u (next types bodies s) (next types bodies u)) (sym is) (plainly_shown s.activations s p simple looks copies others)
  step_shown s t (following c cs k running_is control_is l vs stands goes_on) p looks copies simple =
      subst (λ (n : Next). Shown types bodies w t (next types bodies s) n) (sym goes_on) (following_shown t c cs k s.mode s.control s running_is control_is p looks)
  step_shown s t (elsewhere waiting c k vs running_is control_is operands_are none is) p looks copies simple =
      subst (λ (u : State). Shown types bodies w u (next types bodies s) (next types bodies u)) (sym is)
      (elsewhere_shown waiting c k vs s.mode s.control s.activations s running_is control_is operands_are p none looks)
  step_shown s t (behind waiting c x spot fs k vs running_is control_is operands_are is stands) p looks copies simple =
      subst (λ (u : State). Shown types bodies w u (next types bodies s) (next types bodies u)) (sym stands)
      (behind_shown waiting c x spot fs k vs s.mode s.control s.activations s running_is control_is operands_are p is looks)

-- The law.
pub runs_as_variables : TrackedComponentsRunAsVariables
runs_as_variables types bodies w s t seen p looks copies simple = step_shown types bodies w s t seen p looks copies simple

-- Where the body comes to its end, the state stands plainly.
not_waiting : (waiting : Waiting) (c : ℕ) (actuals : List ActualForm) (references : List Value) (k l : List (Frame Value)) → waiting_frame waiting c ∷ k ≡ frame.Returns actuals references ∷ l → ⊥
not_waiting (assigning right) c actuals references k l e = absurd (cc)
not_waiting getting c actuals references k l e = absurd (cc)
not_waiting (freeing access) c actuals references k l e = absurd (cc)

pub plainly_at_end : (types : List TypeDefinition) (bodies : List BodyForm) (w : View) (s t : State) (actuals : List ActualForm) (references : List Value) (k : List (Frame Value)) → Seen types bodies w s t → s.control ≡ frame.Returns actuals references ∷ k → t ≡ seen_state w s
plainly_at_end types bodies w s t actuals references k (plainly others is) e = is
plainly_at_end types bodies w s t actuals references k (following c cs l running_is control_is m vs stands goes_on) e = absurd (cc)
plainly_at_end types bodies w s t actuals references k (elsewhere waiting c l vs running_is control_is operands_are none is) e =
    absurd (not_waiting waiting c actuals references l k (sym control_is ∙ e))
plainly_at_end types bodies w s t actuals references k (behind waiting c x spot fs l vs running_is control_is operands_are is stands) e =
    absurd (not_waiting waiting c actuals references (frame.Does fs ∷ l) k (sym control_is ∙ e))
