-- Statements, loops and declarations.

use Rattle.std.proofs.Common.{◌≡◌, ℕ, zero, suc, ◌+◌, ◌<◌, Bool, true, false, List, [], ◌∷◌, Option, Some, None, refl, sym, ap, ◌∙◌, subst, arith}
use Rattle.std.specs.Prelude.{ℤ, pos, ◌+ℤ◌, int_le, if◌then◌else◌}
use Rattle.std.specs.List.{slice_index_or}
use Rattle.ada_program.specs.declared.program.TypeDefinition.{TypeDefinition}
use Rattle.ada_program.specs.Form.{PathForm, ExpressionForm, StmtForm, skips, assigns, assigns_record, frees, gets, writes, writes_text, chooses, repeats, counts, exits, calls, returns, raises, encloses, StmtsForm, no_stmts, a_stmt, BranchesForm, otherwise, a_branch, HandlersForm, DeclarationForm, creates_pool, collects, declares, declares_record}
use Rattle.ada_program.specs.ProgramForm.{BodyForm}
use Rattle.ada_program.specs.Typed.{pool_named}
use Rattle.ada_meaning.specs.declared.event.Line.TheVariants.{Image, Literal}
use Rattle.ada_meaning.specs.declared.state.Id.{Id}
use Rattle.ada_meaning.specs.declared.state.Mode.TheVariants.{Running, Exiting, Returning}
use Rattle.ada_meaning.specs.declared.state.Value.{Value}
use Rattle.ada_meaning.specs.declared.state.Value.TheVariants.{Null, Names}
use Rattle.ada_meaning.specs.Event.{Line, Quiet}
use Rattle.ada_meaning.specs.Frame.{Frame}
use Rattle.ada_meaning.specs.Frame as frame
use Rattle.ada_meaning.specs.State.{Activation, collection, storage_pool, pools_in, pool_for}
use Rattle.ada_meaning.specs.Step.{moves, at, raised, jumping, put, entered, owned, path_next, before_last, last_of, branches_next, decided_next, turn_next, repeats_next, turned_next, count_turn_next, counts_next, ranges_next, exit_next, exited_next, record_assign_next, stmt_next, stmts_next, line_next, declaration_next, declarations_next}
use Rattle.ada_meaning.specs.Named.{Object, State, Next, named, whole, inside, an_integer, next}
use Rattle.ada_flow.specs.Tracking.{seen}
use Rattle.ada_tracked.specs.Forms.{seen_expression, seen_condition, seen_record, seen_items, seen_stmt, seen_stmts, seen_branches, seen_handlers, seen_declaration, seen_declarations}
use Rattle.ada_tracked.specs.Frames.{View, number_of, seen_control, tracked_values, standing}
use Rattle.ada_tracked.specs.Simple.{IsVariable, IsFrom, PathIsSimple, StatementIsSimple, StatementsAreSimple, DeclarationIsSimple, DeclarationsAreSimple}
use Rattle.ada_tracked.specs.Seen.{awaits_holder, seen_state, plainly, IsWatched, Waiting, assigning, getting, freeing, waiting_frame, waiting_statement}
use Rattle.ada_tracked.specs.Looking.{LeadsElsewhere, HolderIsElsewhere, StatementsLookElsewhere}
use Rattle.ada_tracked.specs.Copying.{StatementsAssignBare}
use Rattle.ada_tracked.specs.Law.{same, Shown}
use Rattle.ada_tracked.proofs.Lists.{read_front, clear}
use Rattle.ada_tracked.proofs.Paths.{Begins, apart, itself, untracked, tracked, begins, goes_on, within, formal}
use Rattle.ada_tracked.proofs.Found.{running, plain, idly, holder_by}
use Rattle.ada_tracked.proofs.Named.{seen_waiting, start_next, start_holder, BehindElsewhere, behind_formal, assigned_shown, holder_other, holder_formal, holder_tracked}
use Rattle.ada_tracked.proofs.Storing.{steps, put_seen, inside_places}
use Rattle.ada_tracked.proofs.Freeing.{StartsAt, variable_shown}

-- At a component all of them look at the object in which it lies,
at_component : (w : View) (h : List Object) (waiting : Waiting) (x c : ℕ) (cs : List ℕ) (v : Value) → StartsAt w h waiting x (c ∷ cs) v → HolderIsElsewhere w.object h x (c ∷ cs) v
at_component w h (assigning right) x c cs v looks = looks
at_component w h getting x c cs v looks = looks
at_component w h (freeing access) x c cs v looks = looks

-- which is another one, where a variable leads to it that is not the formal parameter.
from_variable : (o : Id) (h : List Object) (x c : ℕ) (cs : List ℕ) (v : Value) → (0 < x) → HolderIsElsewhere o h x (c ∷ cs) v → LeadsElsewhere o h true (before_last (inside v c) cs) (whole v)
from_variable o h zero c cs v lt holder = absurd (omega (arith, lt))
from_variable o h (suc x) c cs v lt holder = holder

module _ (types : List TypeDefinition) (bodies : List BodyForm) (w : View) where
  -- A statement at a path from a variable that is not the formal parameter.
  start_other : (t : State) (waiting : Waiting) (x : ℕ) (cs : List ℕ) (a : Activation Value) (rest : List (Activation Value)) (s : State) → IsFrom w.tracks.first x cs → (0 < x) → StartsAt w s.heap waiting x cs (slice_index_or a.places x Null) → IsWatched w a.places s.heap → awaits_holder s.control ≡ false → Shown types bodies w t (start_next types waiting cs x (running a rest s)) (start_next types (seen_waiting w waiting) cs x (seen_state w (running a rest s)))
  start_other t waiting x [] a rest s simple lt looks p calm = variable_shown types bodies w t waiting x a rest s simple looks p calm
  start_other t waiting x (c ∷ cs) a rest s simple lt looks p calm =
      let v = slice_index_or a.places x Null in
      subst (λ (n : Next). Shown types bodies w t n (start_next types (seen_waiting w waiting) (c ∷ cs) x (seen_state w (running a rest s))))
      (sym (start_holder types waiting c cs x (running a rest s)))
      (subst (λ (n : Next). Shown types bodies w t (holder_by c cs v (waiting_frame waiting) (running a rest s)) n)
      (sym (start_holder types (seen_waiting w waiting) c cs x (seen_state w (running a rest s))))
      (subst (λ (u : Value). Shown types bodies w t (holder_by c cs v (waiting_frame waiting) (running a rest s)) (holder_by c cs u (waiting_frame (seen_waiting w waiting)) (seen_state w (running a rest s))))
      (sym (read_front a.places (tracked_values w s.heap) x Null (inside_places types bodies w x a.places s.heap p simple)))
      (holder_other types bodies w t waiting c cs v a rest s (from_variable w.object s.heap x c cs v lt (at_component w s.heap waiting x c cs v looks)) p)))

  -- From the formal parameter: what it holds is known.
  at_formal : (t : State) (waiting : Waiting) (c : ℕ) (cs : List ℕ) (n : Next) (a : Activation Value) (rest : List (Activation Value)) (s : State) → IsWatched w a.places s.heap → Shown types bodies w t (path_next named (before_last (w.base + c) cs) (Names w.object) (at (waiting_frame waiting (last_of (w.base + c) cs) ∷ s.control) (running a rest s))) n → Shown types bodies w t (start_next types waiting (c ∷ cs) 0 (running a rest s)) n
  at_formal t waiting c cs n a rest s p shown =
      let f = formal w a.places p.formal in
      subst (λ (m : Next). Shown types bodies w t m n) (sym (start_holder types waiting c cs 0 (running a rest s)))
      (subst (λ (v : Value). Shown types bodies w t (holder_by c cs v (waiting_frame waiting) (running a rest s)) n) (sym f.1.0)
      (subst (λ (b : ℕ). Shown types bodies w t (path_next named (before_last (b + c) cs) (Names w.object) (at (waiting_frame waiting (last_of (b + c) cs) ∷ s.control) (running a rest s))) n) (sym f.1.1) shown))

  -- What a statement looks at there: behind the first component another object.
  behind_first_of : (waiting : Waiting) (c : ℕ) (cs : List ℕ) (a : Activation Value) (s : State) → IsWatched w a.places s.heap → StartsAt w s.heap waiting 0 (c ∷ cs) (slice_index_or a.places 0 Null) → BehindElsewhere w.object s.heap (w.base + c) cs
  behind_first_of waiting c cs a s p looks =
      let f = formal w a.places p.formal in
      behind_formal w.object s.heap w.base c cs (slice_index_or a.places 0 Null) f.0 f.1.0 f.1.1 (at_component w s.heap waiting 0 c cs (slice_index_or a.places 0 Null) looks)

  from_formal : (waiting : Waiting) (path : PathForm) (c : ℕ) (cs : List ℕ) (a : Activation Value) (s : State) → path.root ≡ 0 → path.selectors ≡ c ∷ cs → StartsAt w s.heap waiting path.root path.selectors (slice_index_or a.places path.root Null) → StartsAt w s.heap waiting 0 (c ∷ cs) (slice_index_or a.places 0 Null)
  from_formal waiting path c cs a s root is looks =
      subst (λ (x : ℕ). StartsAt w s.heap waiting x (c ∷ cs) (slice_index_or a.places x Null)) root
      (subst (λ (ds : List ℕ). StartsAt w s.heap waiting path.root ds (slice_index_or a.places path.root Null)) is looks)

  start_formal : (t : State) (waiting : Waiting) (c : ℕ) (cs : List ℕ) (a : Activation Value) (rest : List (Activation Value)) (s : State) → (0 < w.tracks.first) → number_of w (w.base + c) ≡ None → StartsAt w s.heap waiting 0 (c ∷ cs) (slice_index_or a.places 0 Null) → IsWatched w a.places s.heap → Shown types bodies w t (start_next types waiting (c ∷ cs) 0 (running a rest s)) (start_next types (seen_waiting w waiting) (c ∷ cs) 0 (seen_state w (running a rest s)))
  start_formal t waiting c cs a rest s lt none looks p =
      let f = formal w a.places p.formal in
      let z = seen_state w (running a rest s) in
      at_formal t waiting c cs (start_next types (seen_waiting w waiting) (c ∷ cs) 0 z) a rest s p
      (subst (λ (n : Next). Shown types bodies w t (path_next named (before_last (w.base + c) cs) (Names w.object) (at (waiting_frame waiting (last_of (w.base + c) cs) ∷ s.control) (running a rest s))) n)
      (sym (start_holder types (seen_waiting w waiting) c cs 0 z
      ∙ ap (λ (v : Value). holder_by c cs v (waiting_frame (seen_waiting w waiting)) z) (read_front a.places (tracked_values w s.heap) 0 Null (inside_places types bodies w 0 a.places s.heap p lt) ∙ f.1.0)
      ∙ ap (λ (b : ℕ). path_next named (before_last (b + c) cs) (Names w.object) (at (waiting_frame (seen_waiting w waiting) (last_of (b + c) cs) ∷ seen_control w s.control) z)) f.1.1))
      (holder_formal types bodies w t waiting (w.base + c) cs a rest s none p (behind_first_of waiting c cs a s p looks)))

  -- A statement at a path, however that begins.
  start_by : (t : State) (waiting : Waiting) (path : PathForm) (fs : StmtsForm) (k : List (Frame Value)) (a : Activation Value) (rest : List (Activation Value)) (s : State) → s.control ≡ frame.Does fs ∷ k → PathIsSimple w.tracks.first path → StartsAt w s.heap waiting path.root path.selectors (slice_index_or a.places path.root Null) → IsWatched w a.places s.heap → t ≡ standing w (running a rest s) (frame.Does (a_stmt (waiting_statement w.tracks waiting (seen w.tracks path)) (seen_stmts w.tracks fs)) ∷ seen_control w k) a.operands → next types bodies t ≡ start_next types (seen_waiting w waiting) (seen w.tracks path).selectors (seen w.tracks path).root (seen_state w (running a rest s)) → Begins w path → Shown types bodies w t (start_next types waiting path.selectors path.root (running a rest s)) (start_next types (seen_waiting w waiting) (seen w.tracks path).selectors (seen w.tracks path).root (seen_state w (running a rest s)))
  start_by t waiting path fs k a rest s does simple looks p stands goes_on (apart lt kept) =
      subst (λ (q : PathForm). Shown types bodies w t (start_next types waiting path.selectors path.root (running a rest s)) (start_next types (seen_waiting w waiting) q.selectors q.root (seen_state w (running a rest s))))
      (sym kept) (start_other t waiting path.root path.selectors a rest s simple lt looks p (ap awaits_holder does))
  start_by t waiting path fs k a rest s does simple looks p stands more (itself root is kept) = absurd (goes_on w.tracks.first path.root path.selectors root is simple)
  start_by t waiting path fs k a rest s does simple looks p stands goes_on (untracked c cs root is none kept) =
      let lt : 0 < w.tracks.first = subst (λ (x : ℕ). x < w.tracks.first) root (within w.tracks.first path.root path.selectors simple) in
      subst (λ (q : PathForm). Shown types bodies w t (start_next types waiting path.selectors path.root (running a rest s)) (start_next types (seen_waiting w waiting) q.selectors q.root (seen_state w (running a rest s))))
      (sym kept)
      (subst (λ (ds : List ℕ). Shown types bodies w t (start_next types waiting ds path.root (running a rest s)) (start_next types (seen_waiting w waiting) ds path.root (seen_state w (running a rest s))))
      (sym is)
      (subst (λ (x : ℕ). Shown types bodies w t (start_next types waiting (c ∷ cs) x (running a rest s)) (start_next types (seen_waiting w waiting) (c ∷ cs) x (seen_state w (running a rest s))))
      (sym root) (start_formal t waiting c cs a rest s lt none (from_formal waiting path c cs a s root is looks) p)))
  start_by t waiting path fs k a rest s does simple looks p stands goes_on (tracked c cs x root is number moved) =
      let goes : start_next types (seen_waiting w waiting) (seen w.tracks path).selectors (seen w.tracks path).root (seen_state w (running a rest s)) ≡ start_next types (seen_waiting w waiting) cs x (seen_state w (running a rest s)) =
      ap (λ (q : PathForm). start_next types (seen_waiting w waiting) q.selectors q.root (seen_state w (running a rest s))) moved in
      subst (λ (n : Next). Shown types bodies w t (start_next types waiting path.selectors path.root (running a rest s)) n) (sym goes)
      (subst (λ (ds : List ℕ). Shown types bodies w t (start_next types waiting ds path.root (running a rest s)) (start_next types (seen_waiting w waiting) cs x (seen_state w (running a rest s))))
      (sym is)
      (subst (λ (y : ℕ). Shown types bodies w t (start_next types waiting (c ∷ cs) y (running a rest s)) (start_next types (seen_waiting w waiting) cs x (seen_state w (running a rest s))))
      (sym root)
      (at_formal t waiting c cs (start_next types (seen_waiting w waiting) cs x (seen_state w (running a rest s))) a rest s p
      (holder_tracked types bodies w t waiting (w.base + c) cs x path fs k a rest s does moved number p
      (behind_first_of waiting c cs a s p (from_formal waiting path c cs a s root is looks)) stands (goes_on ∙ goes)))))

  start_shown : (t : State) (waiting : Waiting) (path : PathForm) (fs : StmtsForm) (k : List (Frame Value)) (a : Activation Value) (rest : List (Activation Value)) (s : State) → s.control ≡ frame.Does fs ∷ k → PathIsSimple w.tracks.first path → StartsAt w s.heap waiting path.root path.selectors (slice_index_or a.places path.root Null) → IsWatched w a.places s.heap → t ≡ standing w (running a rest s) (frame.Does (a_stmt (waiting_statement w.tracks waiting (seen w.tracks path)) (seen_stmts w.tracks fs)) ∷ seen_control w k) a.operands → next types bodies t ≡ start_next types (seen_waiting w waiting) (seen w.tracks path).selectors (seen w.tracks path).root (seen_state w (running a rest s)) → Shown types bodies w t (start_next types waiting path.selectors path.root (running a rest s)) (start_next types (seen_waiting w waiting) (seen w.tracks path).selectors (seen w.tracks path).root (seen_state w (running a rest s)))
  start_shown t waiting path fs k a rest s does simple looks p stands goes_on =
      start_by t waiting path fs k a rest s does simple looks p stands goes_on (begins w path)

  -- Branches and loops.
  branches_shown : (t : State) (branches : BranchesForm) (a : Activation Value) (rest : List (Activation Value)) (s : State) → Shown types bodies w t (branches_next named branches (running a rest s)) (branches_next named (seen_branches w.tracks branches) (seen_state w (running a rest s)))
  branches_shown t (otherwise fs) a rest s = idly types bodies w t Quiet (at (frame.Does fs ∷ s.control) (running a rest s)) refl
  branches_shown t (a_branch e fs branches) a rest s =
      idly types bodies w t Quiet (at (frame.Computes e ∷ frame.Decides fs branches ∷ s.control) (running a rest s)) refl

  pub decided_shown : (t : State) (fs : StmtsForm) (branches : BranchesForm) (truth : Option Bool) (a : Activation Value) (rest : List (Activation Value)) (s : State) → Shown types bodies w t (decided_next named fs branches truth (running a rest s)) (decided_next named (seen_stmts w.tracks fs) (seen_branches w.tracks branches) truth (seen_state w (running a rest s)))
  decided_shown t fs branches None a rest s = refl
  decided_shown t fs branches (Some true) a rest s = idly types bodies w t Quiet (at (frame.Does fs ∷ s.control) (running a rest s)) refl
  decided_shown t fs branches (Some false) a rest s = branches_shown t branches a rest s

  turn_shown : (t : State) (condition : Option ExpressionForm) (fs : StmtsForm) (a : Activation Value) (rest : List (Activation Value)) (s : State) → Shown types bodies w t (turn_next named condition fs (running a rest s)) (turn_next named (seen_condition w.tracks condition) (seen_stmts w.tracks fs) (seen_state w (running a rest s)))
  turn_shown t condition no_stmts a rest s = refl
  turn_shown t condition (a_stmt f fs) a rest s =
      idly types bodies w t Quiet (at (frame.Does (a_stmt f fs) ∷ frame.Repeats condition (a_stmt f fs) ∷ s.control) (running a rest s)) refl

  pub repeats_shown : (t : State) (condition : Option ExpressionForm) (fs : StmtsForm) (a : Activation Value) (rest : List (Activation Value)) (s : State) → Shown types bodies w t (repeats_next named condition fs (running a rest s)) (repeats_next named (seen_condition w.tracks condition) (seen_stmts w.tracks fs) (seen_state w (running a rest s)))
  repeats_shown t None fs a rest s = turn_shown t None fs a rest s
  repeats_shown t (Some e) fs a rest s = idly types bodies w t Quiet (at (frame.Computes e ∷ frame.Turns e fs ∷ s.control) (running a rest s)) refl

  pub turned_shown : (t : State) (e : ExpressionForm) (fs : StmtsForm) (truth : Option Bool) (a : Activation Value) (rest : List (Activation Value)) (s : State) → awaits_holder s.control ≡ false → Shown types bodies w t (turned_next named e fs truth (running a rest s)) (turned_next named (seen_expression w.tracks e) (seen_stmts w.tracks fs) truth (seen_state w (running a rest s)))
  turned_shown t e fs None a rest s calm = refl
  turned_shown t e fs (Some true) a rest s calm = turn_shown t (Some e) fs a rest s
  turned_shown t e fs (Some false) a rest s calm = idly types bodies w t Quiet (running a rest s) calm

  count_turn_shown : (t : State) (x : ℕ) (value last : ℤ) (fs : StmtsForm) (a : Activation Value) (rest : List (Activation Value)) (s : State) → IsVariable w.tracks.first x → IsWatched w a.places s.heap → Shown types bodies w t (count_turn_next named x value last fs (running a rest s)) (count_turn_next named x value last (seen_stmts w.tracks fs) (seen_state w (running a rest s)))
  count_turn_shown t x value last no_stmts a rest s simple p = refl
  count_turn_shown t x value last (a_stmt f fs) a rest s simple p =
      let z = at (frame.Does (a_stmt f fs) ∷ frame.Counts x (value +ℤ pos 1) last (a_stmt f fs) ∷ s.control) s in
      steps types bodies w t Quiet Quiet (put x (an_integer value) (running a rest z)) (put x (an_integer value) (seen_state w (running a rest z))) (same refl) refl
      (put_seen types bodies w x (an_integer value) a rest z (inside_places types bodies w x a.places s.heap p simple.1))

  counting_shown : (t : State) (more : Bool) (x : ℕ) (value last : ℤ) (fs : StmtsForm) (a : Activation Value) (rest : List (Activation Value)) (s : State) → IsVariable w.tracks.first x → IsWatched w a.places s.heap → awaits_holder s.control ≡ false → Shown types bodies w t (if more then count_turn_next named x value last fs (running a rest s) else moves Quiet (running a rest s)) (if more then count_turn_next named x value last (seen_stmts w.tracks fs) (seen_state w (running a rest s)) else moves Quiet (seen_state w (running a rest s)))
  counting_shown t true x value last fs a rest s simple p calm = count_turn_shown t x value last fs a rest s simple p
  counting_shown t false x value last fs a rest s simple p calm = idly types bodies w t Quiet (running a rest s) calm

  pub counts_shown : (t : State) (x : ℕ) (value last : ℤ) (fs : StmtsForm) (a : Activation Value) (rest : List (Activation Value)) (s : State) → IsVariable w.tracks.first x → IsWatched w a.places s.heap → awaits_holder s.control ≡ false → Shown types bodies w t (counts_next named x value last fs (running a rest s)) (counts_next named x value last (seen_stmts w.tracks fs) (seen_state w (running a rest s)))
  counts_shown t x value last fs a rest s simple p calm = counting_shown t (int_le value last) x value last fs a rest s simple p calm

  pub ranges_shown : (t : State) (x : ℕ) (fs : StmtsForm) (low high : Option ℤ) (a : Activation Value) (rest : List (Activation Value)) (s : State) → IsVariable w.tracks.first x → IsWatched w a.places s.heap → awaits_holder s.control ≡ false → Shown types bodies w t (ranges_next named x fs low high (running a rest s)) (ranges_next named x (seen_stmts w.tracks fs) low high (seen_state w (running a rest s)))
  ranges_shown t x fs None high a rest s simple p calm = refl
  ranges_shown t x fs (Some low) None a rest s simple p calm = refl
  ranges_shown t x fs (Some low) (Some high) a rest s simple p calm = counts_shown t x low high fs a rest s simple p calm

  exit_shown : (t : State) (condition : Option ExpressionForm) (a : Activation Value) (rest : List (Activation Value)) (s : State) → Shown types bodies w t (exit_next named condition (running a rest s)) (exit_next named (seen_condition w.tracks condition) (seen_state w (running a rest s)))
  exit_shown t None a rest s = plain types bodies w t Quiet (jumping Exiting (running a rest s)) tt
  exit_shown t (Some e) a rest s = idly types bodies w t Quiet (at (frame.Computes e ∷ frame.Exits ∷ s.control) (running a rest s)) refl

  pub exited_shown : (t : State) (truth : Option Bool) (a : Activation Value) (rest : List (Activation Value)) (s : State) → awaits_holder s.control ≡ false → Shown types bodies w t (exited_next named truth (running a rest s)) (exited_next named truth (seen_state w (running a rest s)))
  exited_shown t None a rest s calm = refl
  exited_shown t (Some true) a rest s calm = plain types bodies w t Quiet (jumping Exiting (running a rest s)) tt
  exited_shown t (Some false) a rest s calm = idly types bodies w t Quiet (running a rest s) calm

  pub line_shown : (t : State) (found : Option ℤ) (a : Activation Value) (rest : List (Activation Value)) (s : State) → awaits_holder s.control ≡ false → Shown types bodies w t (line_next named found (running a rest s)) (line_next named found (seen_state w (running a rest s)))
  line_shown t None a rest s calm = refl
  line_shown t (Some i) a rest s calm = idly types bodies w t (Line (Image i)) (running a rest s) calm

  -- A statement that is first of what is left.
  stmt_shown : (f : StmtForm) (fs : StmtsForm) (k : List (Frame Value)) (a : Activation Value) (rest : List (Activation Value)) (s : State) → StatementIsSimple w.tracks.first f → IsWatched w a.places s.heap → StatementsLookElsewhere w.object (at (frame.Does (a_stmt f fs) ∷ k) (running a rest s)) (a_stmt f fs) → StatementsAssignBare types (a_stmt f fs) → Shown types bodies w (seen_state w (at (frame.Does (a_stmt f fs) ∷ k) (running a rest s))) (stmt_next named types bodies f (at (frame.Does fs ∷ k) (running a rest s))) (stmt_next named types bodies (seen_stmt w.tracks f) (seen_state w (at (frame.Does fs ∷ k) (running a rest s))))
  unfolding next
  stmt_shown skips fs k a rest s simple p looks bare =
      idly types bodies w (seen_state w (at (frame.Does (a_stmt skips fs) ∷ k) (running a rest s))) Quiet (at (frame.Does fs ∷ k) (running a rest s)) refl
  stmt_shown (assigns target right) fs k a rest s simple p looks bare =
      start_shown (seen_state w (at (frame.Does (a_stmt (assigns target right) fs) ∷ k) (running a rest s))) (assigning right) target fs k a rest (at (frame.Does fs ∷ k) s) refl simple.0 looks p refl refl
  stmt_shown (assigns_record target items) fs k a rest s simple p looks bare =
      let z = at (frame.Does fs ∷ k) s in
      let t = seen_state w (at (frame.Does (a_stmt (assigns_record target items) fs) ∷ k) (running a rest s)) in
      let goes : next types bodies t ≡ record_assign_next named false (seen_record w.tracks target) (seen_items w.tracks items) (seen_state w (running a rest z)) =
      ap (λ (b : Bool). record_assign_next named b (seen_record w.tracks target) (seen_items w.tracks items) (seen_state w (running a rest z))) bare in
      subst (λ (b : Bool). Shown types bodies w t (record_assign_next named b target items (running a rest z)) (record_assign_next named b (seen_record w.tracks target) (seen_items w.tracks items) (seen_state w (running a rest z))))
      (sym bare)
      (assigned_shown types bodies w t target items a rest z simple.0 p looks
      (seen_control w (frame.Does (a_stmt (assigns_record target items) fs) ∷ k), a.operands, refl, goes))
  stmt_shown (frees access path) fs k a rest s simple p looks bare =
      start_shown (seen_state w (at (frame.Does (a_stmt (frees access path) fs) ∷ k) (running a rest s))) (freeing access) path fs k a rest (at (frame.Does fs ∷ k) s) refl simple looks p refl refl
  stmt_shown (gets target) fs k a rest s simple p looks bare =
      start_shown (seen_state w (at (frame.Does (a_stmt (gets target) fs) ∷ k) (running a rest s))) getting target fs k a rest (at (frame.Does fs ∷ k) s) refl simple looks p refl refl
  stmt_shown (writes e) fs k a rest s simple p looks bare =
      idly types bodies w (seen_state w (at (frame.Does (a_stmt (writes e) fs) ∷ k) (running a rest s))) Quiet (at (frame.Computes e ∷ frame.Writes ∷ frame.Does fs ∷ k) (running a rest s)) refl
  stmt_shown (writes_text text) fs k a rest s simple p looks bare =
      idly types bodies w (seen_state w (at (frame.Does (a_stmt (writes_text text) fs) ∷ k) (running a rest s))) (Line (Literal (record { 0 = text }))) (at (frame.Does fs ∷ k) (running a rest s)) refl
  stmt_shown (chooses branches) fs k a rest s simple p looks bare =
      branches_shown (seen_state w (at (frame.Does (a_stmt (chooses branches) fs) ∷ k) (running a rest s))) branches a rest (at (frame.Does fs ∷ k) s)
  stmt_shown (repeats condition gs spot) fs k a rest s simple p looks bare =
      idly types bodies w (seen_state w (at (frame.Does (a_stmt (repeats condition gs spot) fs) ∷ k) (running a rest s))) Quiet (at (frame.Repeats condition gs ∷ frame.Does fs ∷ k) (running a rest s)) refl
  stmt_shown (counts x low high gs spot) fs k a rest s simple p looks bare =
      idly types bodies w (seen_state w (at (frame.Does (a_stmt (counts x low high gs spot) fs) ∷ k) (running a rest s))) Quiet
      (at (frame.Computes low ∷ frame.Computes high ∷ frame.Ranges x gs ∷ frame.Does fs ∷ k) (running a rest s)) refl
  stmt_shown (exits condition spot) fs k a rest s simple p looks bare =
      exit_shown (seen_state w (at (frame.Does (a_stmt (exits condition spot) fs) ∷ k) (running a rest s))) condition a rest (at (frame.Does fs ∷ k) s)
  stmt_shown (calls procedure actuals) fs k a rest s simple p looks bare = absurd simple
  stmt_shown (returns spot) fs k a rest s simple p looks bare =
      plain types bodies w (seen_state w (at (frame.Does (a_stmt (returns spot) fs) ∷ k) (running a rest s))) Quiet (jumping Returning (at (frame.Does fs ∷ k) (running a rest s))) tt
  stmt_shown (raises e) fs k a rest s simple p looks bare =
      plain types bodies w (seen_state w (at (frame.Does (a_stmt (raises e) fs) ∷ k) (running a rest s))) Quiet (raised e (at (frame.Does fs ∷ k) (running a rest s))) tt
  stmt_shown (encloses ds gs hs) fs k a rest s simple p looks bare =
      idly types bodies w (seen_state w (at (frame.Does (a_stmt (encloses ds gs hs) fs) ∷ k) (running a rest s))) Quiet
      (entered (at (frame.Elaborates ds gs hs ∷ frame.Does fs ∷ k) (running a rest s))) refl

  pub stmts_shown : (fs : StmtsForm) (k : List (Frame Value)) (a : Activation Value) (rest : List (Activation Value)) (s : State) → StatementsAreSimple w.tracks.first fs → IsWatched w a.places s.heap → StatementsLookElsewhere w.object (at (frame.Does fs ∷ k) (running a rest s)) fs → StatementsAssignBare types fs → awaits_holder k ≡ false → Shown types bodies w (seen_state w (at (frame.Does fs ∷ k) (running a rest s))) (stmts_next named types bodies fs (at k (running a rest s))) (stmts_next named types bodies (seen_stmts w.tracks fs) (seen_state w (at k (running a rest s))))
  stmts_shown no_stmts k a rest s simple p looks bare calm = idly types bodies w (seen_state w (at (frame.Does no_stmts ∷ k) (running a rest s))) Quiet (at k (running a rest s)) calm
  stmts_shown (a_stmt f fs) k a rest s simple p looks bare calm = stmt_shown f fs k a rest s simple.0 p looks bare

  -- Declarations.
  declaration_shown : (t : State) (d : DeclarationForm) (a : Activation Value) (rest : List (Activation Value)) (s : State) → DeclarationIsSimple w.tracks.first d → awaits_holder s.control ≡ false → Shown types bodies w t (declaration_next named types d (running a rest s)) (declaration_next named types (seen_declaration w.tracks d) (seen_state w (running a rest s)))
  declaration_shown t (creates_pool pool) a rest s simple calm =
      (seen_state w (owned (storage_pool pool (pools_in s.masters + 1)) (running a rest s)), refl, plainly (clear w.object Running s.control a.operands calm) refl)
  declaration_shown t (collects access) a rest s simple calm =
      idly types bodies w t Quiet (owned (collection access (pool_for (pool_named types access) s.masters)) (running a rest s)) calm
  declaration_shown t (declares x right) a rest s simple calm = idly types bodies w t Quiet (at (frame.Evaluates right ∷ frame.Declares x ∷ s.control) (running a rest s)) refl
  declaration_shown t (declares_record x object_type initial) a rest s simple calm = absurd simple

  pub declarations_shown : (t : State) (ds : List DeclarationForm) (fs : StmtsForm) (hs : HandlersForm) (a : Activation Value) (rest : List (Activation Value)) (s : State) → DeclarationsAreSimple w.tracks.first ds → Shown types bodies w t (declarations_next named types ds fs hs (running a rest s)) (declarations_next named types (seen_declarations w.tracks ds) (seen_stmts w.tracks fs) (seen_handlers w.tracks hs) (seen_state w (running a rest s)))
  declarations_shown t [] fs hs a rest s simple =
      idly types bodies w t Quiet (at (frame.Does fs ∷ frame.Handles hs ∷ frame.Closes ∷ s.control) (running a rest s)) refl
  declarations_shown t (d ∷ ds) fs hs a rest s simple = declaration_shown t d a rest (at (frame.Elaborates ds fs hs ∷ s.control) s) simple.0 refl
