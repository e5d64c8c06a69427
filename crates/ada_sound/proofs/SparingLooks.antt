-- Where a body that spares an access type looks next: at an object of that type only where a path begins with the formal parameter (7.6).

use Rattle.std.proofs.Common.{◌≡◌, ℕ, Bool, true, false, not, List, [], ◌∷◌, Option, Some, None, drop, refl, sym, ap, ◌∙◌}
use Rattle.std.specs.List.{list_all}
use Rattle.std.proofs.lemmas.Bool.{and_parts}
use Rattle.ada_program.specs.declared.program.VariableKind.{VariableKind}
use Rattle.ada_program.specs.declared.program.VariableKind.TheVariants as variable
use Rattle.ada_program.specs.Form.{ExpressionForm, reads, is_null, ItemForm, item_of_path, item_of_record, RightForm, value_of, assigns, frees, gets, StmtsForm, no_stmts, a_stmt, assigns_record}
use Rattle.ada_program.specs.ProgramForm.{TypeForm, VariableForm, BodyForm}
use Rattle.ada_program.specs.WellFormed.{path_kind, selected_kind, value_access}
use Rattle.ada_flow.specs.Flow.{is_owning_record}
use Rattle.ada_meaning.specs.declared.state.Id.{Id}
use Rattle.ada_meaning.specs.declared.state.Mode.{Mode}
use Rattle.ada_meaning.specs.declared.state.Mode.TheVariants.{Running, Raising, Exiting, Returning}
use Rattle.ada_meaning.specs.declared.state.Value.{Value}
use Rattle.ada_meaning.specs.declared.state.Value.TheVariants.{Null, Names, Scalar, Part}
use Rattle.ada_meaning.specs.Frame.{Frame}
use Rattle.ada_meaning.specs.Frame as frame
use Rattle.ada_meaning.specs.Step.{first_or, newest, operands, places}
use Rattle.ada_meaning.specs.Named.{Object, State, named, object_at}
use Rattle.ada_quiet.specs.Simple.{holds_one_value}
use Rattle.ada_tracked.specs.Looking.{HoldsElsewhere, LeadsElsewhere, ExpressionLooksElsewhere, ItemsLookElsewhere, RightLooksElsewhere, StatementsLookElsewhere, FrameLooksElsewhere, NextLooksElsewhere, FirstLooksElsewhere}
use Rattle.ada_tracked.specs.Seen.{IsOther, awaits_holder}
use Rattle.ada_tracked.specs.Simple.{FrameIsSimple}
use Rattle.ada_reaching.specs.Apart.{Apart}
use Rattle.ada_reaching.specs.Forms.{may_follow, path_shuns, expression_shuns, item_shuns, right_shuns, statement_shuns, statements_shun, record_path_shuns}
use Rattle.ada_reaching.specs.Reaching.{FrameShuns, IsInFront, OperandSeeks, Seeks, seeks_nothing}
use Rattle.ada_reaching.proofs.Going.{anew_quiet}
use Rattle.ada_reaching.proofs.Jumps.{FirstIsRooted}
use Rattle.ada_reaching.proofs.Paths.{IsSound}
use Rattle.ada_reaching.proofs.Rooted.{ExpressionIsRooted, ItemsAreRooted, RightIsRooted, StatementsAreRooted, FrameIsRooted}
use Rattle.ada_reaching.proofs.Selections.{shun_first}
use Rattle.ada_sound.proofs.Invariant.{Control}
use Rattle.ada_sound.proofs.SparingPaths.{is_around, MayFollowIn, lands, component_other, starts_elsewhere, holder_elsewhere, freed_elsewhere}

-- No object is a ghost.
abbrev pub no_ghosts : Id → Bool
no_ghosts o = false

-- What is left to do begins with selectors that are followed.
abbrev pub begins_following : Control → Bool
begins_following [] = false
begins_following (frame.Follows cs ∷ k) = true
begins_following (f ∷ k) = false

-- A record that is copied next has no component of an access type.
abbrev pub CopiesBare : List TypeForm → Control → Type 0
CopiesBare types [] = Unit {0}
CopiesBare types (frame.Copies c t ∷ k) = is_owning_record types t ≡ false
CopiesBare types (f ∷ k) = Unit {0}

-- Where selectors are followed next, and no jump is on its way, the newest operand leads to another object; behind selectors that are followed no others wait, and
-- no jump comes to any. A record that is copied next, or behind them, has no component of an access type.
abbrev pub SoughtIsOther : List TypeForm → Id → Mode → Control → (operands : List Value) → Type 0
SoughtIsOther types o Running (frame.Follows cs ∷ k) vs = IsOther o (first_or Null vs) × (begins_following k ≡ false) × CopiesBare types k
SoughtIsOther types o Running k vs = CopiesBare types k
SoughtIsOther types o m k vs = begins_following k ≡ false

-- So it is with a record that is an item which is evaluated next.
abbrev pub ItemIsBare : List TypeForm → List ItemForm → Type 0
ItemIsBare types (item_of_record q ∷ is) = is_owning_record types q.record_type ≡ false
ItemIsBare types is = Unit {0}

-- Where items are evaluated next, and no jump is on its way.
abbrev pub NextIsBare : List TypeForm → Mode → Control → Type 0
NextIsBare types Running (frame.Fills items ∷ k) = ItemIsBare types items
NextIsBare types m k = Unit {0}

-- Where what is left to do begins with no frame that looks for an object, none waits for the holder of a component.
calm_awaits : (k : Control) → seeks_nothing k ≡ true → awaits_holder k ≡ false
calm_awaits [] calm = refl
calm_awaits (frame.Targets c right ∷ k) calm = absurd (cc)
calm_awaits (frame.Receives c ∷ k) calm = absurd (cc)
calm_awaits (frame.FreesIn access c ∷ k) calm = absurd (cc)
calm_awaits (f ∷ k) calm = refl

-- Behind a simple frame that follows no selectors no frame looks for an object.
pub quiet_behind :
    (first : ℕ) (f : Frame Value) (k : Control) → FrameIsSimple first f → begins_following (f ∷ k) ≡ false → IsInFront f k → seeks_nothing k ≡ true
quiet_behind first (frame.Follows cs) k simple other front = absurd (cc)
quiet_behind first (frame.Treats v treatment tasks) k simple other front = absurd simple
quiet_behind first (frame.Ends v) k simple other front = front
quiet_behind first (frame.GivesBack v cause pool) k simple other front = front
quiet_behind first frame.Confines k simple other front = absurd simple
quiet_behind first f k simple other front = anew_quiet k front

-- What is sought for the holder of a component may be followed.
awaited_may :
    (types : List TypeForm) (shuns : ℕ → Bool) (apart : Apart) (may : Bool) (u : ℕ) (k : Control) → awaits_holder k ≡ true
    → Seeks types shuns apart may u k → may ≡ true
awaited_may types shuns apart may u [] is seeks = absurd (cc)
awaited_may types shuns apart may u (frame.Targets c right ∷ k) is seeks = seeks
awaited_may types shuns apart may u (frame.Receives c ∷ k) is seeks = seeks
awaited_may types shuns apart may u (frame.FreesIn access c ∷ k) is seeks = seeks.0
awaited_may types shuns apart may u (f ∷ k) is seeks = absurd (cc)

-- What is held may be followed, if it is no access value of a type that is shunned.
pub may_so :
    (shuns : ℕ → Bool) (kind : Option VariableKind) → ((u : ℕ) → value_access kind ≡ Some u → not (shuns u) ≡ true) → may_follow shuns kind ≡ true
may_so shuns None each = refl
may_so shuns (Some variable.Integer) each = refl
may_so shuns (Some variable.Boolean) each = refl
may_so shuns (Some (variable.Access access)) each = each access.0 refl
may_so shuns (Some (variable.Record object)) each = refl

-- One name is named.
same_name : {p q : Id} → Names p ≡ Names q → p ≡ q
same_name e = cc

module _ (types : List TypeForm) (variables : List VariableForm) (s : State) (sound : IsSound types variables s.heap (places s))
    (plain : list_all (λ y. holds_one_value y.kind) (drop 1 variables) ≡ true) (o : Id) (x : Object) (found : object_at s.heap o ≡ Some x)
    (apart : Apart) where
  -- Which types are shunned.
  abbrev shuns : ℕ → Bool
  shuns = is_around x.cell.access

  -- From the object that the newest operand names nothing is sought that is shunned.
  abbrev pub NewestSeeks : Control → Type 0
  NewestSeeks k =
      (q : Id) (y : Object) → newest named s ≡ Names q → object_at s.heap q ≡ Some y → Seeks types shuns apart true y.cell.access k

  -- So it is where it is so from the operands.
  newest_seeks : (k : Control) (vs : List Value) → operands s ≡ vs → OperandSeeks types shuns apart no_ghosts s.heap Running k vs → NewestSeeks k
  newest_seeks k [] are seeks q y e at = let none : Null ≡ Names q = sym (ap (first_or Null) are) ∙ e in absurd (cc)
  newest_seeks k (Null ∷ vs) are seeks q y e at = let none : Null ≡ Names q = sym (ap (first_or Null) are) ∙ e in absurd (cc)
  newest_seeks k (Names p ∷ vs) are seeks q y e at =
      let same : p ≡ q = same_name (sym (ap (first_or Null) are) ∙ e) in
      seeks y (ap (object_at s.heap) same ∙ at)
  newest_seeks k (Scalar n ∷ vs) are seeks q y e at = let none : Scalar n ≡ Names q = sym (ap (first_or Null) are) ∙ e in absurd (cc)
  newest_seeks k (Part p place ∷ vs) are seeks q y e at = let none : Part p place ≡ Names q = sym (ap (first_or Null) are) ∙ e in absurd (cc)

  -- So it is in the state.
  pub seeks_so : (k : Control) → OperandSeeks types shuns apart no_ghosts s.heap Running k (operands s) → NewestSeeks k
  seeks_so k seeks = newest_seeks k (operands s) refl seeks

  -- What is selected behind the newest operand may be followed, if more is selected behind it.
  pub next_follows :
      (c d : ℕ) (cs : List ℕ) (k : Control) → NewestSeeks (frame.Follows (c ∷ d ∷ cs) ∷ k)
      → MayFollowIn types variables s sound plain o x found (newest named s) c
  next_follows c d cs k seeks = λ q y e there.
      shun_first types shuns (selected_kind types (Some (variable.Access (record { 0 = y.cell.access }))) c) d cs (seeks q y e there).1

  -- So it may, if it is sought for what follows nothing that is shunned.
  pub sought_follows :
      (c : ℕ) (k : Control) → ((may : Bool) (u : ℕ) → Seeks types shuns apart may u k → may ≡ true) → NewestSeeks (frame.Follows (c ∷ []) ∷ k)
      → MayFollowIn types variables s sound plain o x found (newest named s) c
  sought_follows c k each seeks = λ q y e there.
      may_so shuns (selected_kind types (Some (variable.Access (record { 0 = y.cell.access }))) c)
      (λ u is. each (not (shuns u)) u ((seeks q y e there).2 u is))

  -- The paths of an expression look elsewhere.
  expression_elsewhere :
      (e : ExpressionForm) → expression_shuns types shuns apart variables e ≡ true → ExpressionIsRooted types variables e → ExpressionLooksElsewhere o s e
  expression_elsewhere (reads path) shun root =
      starts_elsewhere types variables s sound plain o x found path.root path.selectors root.0 root.1 shun
  expression_elsewhere (is_null equal path) shun root =
      starts_elsewhere types variables s sound plain o x found path.root path.selectors root.0 root.1 shun
  expression_elsewhere e shun root = tt

  -- That of the first of some items does.
  items_elsewhere :
      (items : List ItemForm) → list_all (item_shuns types shuns apart variables) items ≡ true → ItemsAreRooted types variables items
      → ItemsLookElsewhere o s items
  items_elsewhere [] shun root = tt
  items_elsewhere (item_of_path path ∷ is) shun root =
      let two = and_parts (item_shuns types shuns apart variables (item_of_path path)) (list_all (item_shuns types shuns apart variables) is) shun in
      starts_elsewhere types variables s sound plain o x found path.root path.selectors root.0 root.1 two.0
  items_elsewhere (item_of_record q ∷ is) shun root =
      let two = and_parts (item_shuns types shuns apart variables (item_of_record q)) (list_all (item_shuns types shuns apart variables) is) shun in
      let own = and_parts (path_shuns types shuns apart variables q.object) (may_follow shuns (path_kind types variables q.object)) two.0 in
      starts_elsewhere types variables s sound plain o x found q.object.root q.object.selectors root.0 root.1 own.0
  items_elsewhere (i ∷ is) shun root = tt

  -- That of what is assigned does.
  right_elsewhere :
      (right : RightForm) → right_shuns types shuns apart variables right ≡ true → RightIsRooted types variables right → RightLooksElsewhere o s right
  right_elsewhere (value_of path) shun root =
      starts_elsewhere types variables s sound plain o x found path.root path.selectors root.0 root.1 shun
  right_elsewhere right shun root = tt

  -- That of the first of some statements does.
  statements_elsewhere :
      (fs : StmtsForm) → statements_shun types shuns apart variables fs ≡ true → StatementsAreRooted types variables fs
      → StatementsLookElsewhere o s fs
  statements_elsewhere no_stmts shun root = tt
  statements_elsewhere (a_stmt (assigns target right) fs) shun root =
      let two = and_parts (statement_shuns types shuns apart variables (assigns target right)) (statements_shun types shuns apart variables fs) shun in
      let one = and_parts (path_shuns types shuns apart variables target) (right_shuns types shuns apart variables right) two.0 in
      holder_elsewhere types variables s sound plain o x found target.root target.selectors root.0 root.1 one.0
  statements_elsewhere (a_stmt (assigns_record target items) fs) shun root =
      let two = and_parts (statement_shuns types shuns apart variables (assigns_record target items)) (statements_shun types shuns apart variables fs) shun in
      let three = and_parts _ _ two.0 in
      let one = and_parts (record_path_shuns types shuns apart variables target) (list_all (item_shuns types shuns apart variables) items) three.0 in
      let own = and_parts (path_shuns types shuns apart variables target.object) (may_follow shuns (path_kind types variables target.object)) one.0 in
      starts_elsewhere types variables s sound plain o x found target.object.root target.object.selectors root.0 root.1 own.0
  statements_elsewhere (a_stmt (frees access path) fs) shun root =
      let two = and_parts (statement_shuns types shuns apart variables (frees access path)) (statements_shun types shuns apart variables fs) shun in
      let one = and_parts _ _ two.0 in
      let own = and_parts (path_shuns types shuns apart variables path) (may_follow shuns (path_kind types variables path)) one.0 in
      freed_elsewhere types variables s sound plain o x found path.root path.selectors root.0 root.1 own.0 (ap (may_follow shuns) (sym root.3) ∙ own.1)
  statements_elsewhere (a_stmt (gets target) fs) shun root =
      let two = and_parts (statement_shuns types shuns apart variables (gets target)) (statements_shun types shuns apart variables fs) shun in
      holder_elsewhere types variables s sound plain o x found target.root target.selectors root.0 root.1 two.0
  statements_elsewhere (a_stmt f fs) shun root = tt

  -- A component is read of the object that the newest operand names.
  holds_elsewhere :
      (c : ℕ) (cs : List ℕ) (k : Control) → NewestSeeks (frame.Follows (c ∷ cs) ∷ k)
      → HoldsElsewhere o s.heap (awaits_holder k) (newest named s) c cs
  holds_elsewhere c [] k seeks = λ cell u is holds.
      lands o (awaits_holder k) u
      (λ awaits.
      let may = sought_follows c k (λ may t more. awaited_may types shuns apart may t k awaits more) seeks in
      component_other types variables s sound plain o x found (newest named s) c may cell u is holds)
  holds_elsewhere c (d ∷ cs) k seeks = tt

  -- Selectors are followed from it.
  leads_elsewhere :
      (cs : List ℕ) (k : Control) → NewestSeeks (frame.Follows cs ∷ k) → IsOther o (newest named s)
      → LeadsElsewhere o s.heap (awaits_holder k) cs (newest named s)
  leads_elsewhere [] k seeks other = lands o (awaits_holder k) (newest named s) (λ awaits. other)
  leads_elsewhere (c ∷ cs) k seeks other = (other, holds_elsewhere c cs k seeks)

  module _ (bodies : List BodyForm) (first : ℕ) where
    -- A frame that follows no selectors looks elsewhere.
    frame_elsewhere :
        (f : Frame Value) (k : Control) → FrameShuns types shuns apart bodies no_ghosts variables f → FrameIsRooted types variables f
        → NewestSeeks (f ∷ k) → FrameLooksElsewhere o s f
    frame_elsewhere (frame.Does fs) k shun root seeks = statements_elsewhere fs shun root
    frame_elsewhere (frame.Evaluates right) k shun root seeks = right_elsewhere right shun root
    frame_elsewhere (frame.Computes e) k shun root seeks = expression_elsewhere e shun root
    frame_elsewhere (frame.Fills items) k shun root seeks = items_elsewhere items shun root
    frame_elsewhere (frame.FreesIn access c) k shun root seeks =
        component_other types variables s sound plain o x found (newest named s) c (λ q y e there. (seeks q y e there).1)
    frame_elsewhere f k shun root seeks = tt

    -- So does each frame, where no jump is on its way.
    next_elsewhere :
        (f : Frame Value) (k : Control) → FrameIsSimple first f → FrameShuns types shuns apart bodies no_ghosts variables f → IsInFront f k
        → FrameIsRooted types variables f → NewestSeeks (f ∷ k) → SoughtIsOther types o Running (f ∷ k) (operands s) → NextLooksElsewhere o s f k
    next_elsewhere (frame.Follows cs) k simple shun front root seeks sought = leads_elsewhere cs k seeks sought.0
    next_elsewhere f k simple shun front root seeks sought =
        (calm_awaits k (quiet_behind first f k simple refl front), frame_elsewhere f k shun root seeks)

    -- And in any mode.
    pub first_elsewhere :
        (m : Mode) (f : Frame Value) (k : Control) → FrameIsSimple first f → FrameShuns types shuns apart bodies no_ghosts variables f → IsInFront f k
        → FirstIsRooted types variables m (f ∷ k) → OperandSeeks types shuns apart no_ghosts s.heap m (f ∷ k) (operands s)
        → SoughtIsOther types o m (f ∷ k) (operands s) → FirstLooksElsewhere o s m (f ∷ k)
    first_elsewhere Running f k simple shun front root seeks sought = next_elsewhere f k simple shun front root (seeks_so (f ∷ k) seeks) sought
    first_elsewhere (Raising e) f k simple shun front root seeks sought = calm_awaits k (quiet_behind first f k simple sought front)
    first_elsewhere Exiting f k simple shun front root seeks sought = calm_awaits k (quiet_behind first f k simple sought front)
    first_elsewhere Returning f k simple shun front root seeks sought = calm_awaits k (quiet_behind first f k simple sought front)
