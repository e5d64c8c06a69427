-- What a body frees that shuns some access types (13.11.2).

use Rattle.std.proofs.Common.{◌≡◌, ℕ, Bool, true, false, not, ◌&&◌, if◌then◌else◌, List, [], ◌∷◌, Option, Some, None, refl, sym, ap, ◌∙◌, subst, inl}
use Rattle.std.specs.List.{slice_get}
use Rattle.ada_program.specs.declared.program.Exception.TheVariants.{ConstraintError}
use Rattle.ada_program.specs.declared.program.TypeDefinition.{TypeDefinition}
use Rattle.ada_program.specs.declared.program.TypeNo.{TypeNo}
use Rattle.ada_program.specs.declared.program.VariableKind.{VariableKind}
use Rattle.ada_program.specs.declared.program.VariableKind.TheVariants as variable
use Rattle.ada_program.specs.WellFormed.{held_kind, kind_among, reached_components, variable_kind}
use Rattle.ada_parts.specs.declared.tasks.Direction.TheVariants.{WholeFirst}
use Rattle.ada_meaning.specs.declared.event.Cause.TheVariants.{Freeing}
use Rattle.ada_meaning.specs.declared.event.Halt.TheVariants.{Erroneous}
use Rattle.ada_meaning.specs.declared.event.Why.TheVariants.{GivesElsewhere}
use Rattle.ada_meaning.specs.declared.state.Id.{Id}
use Rattle.ada_meaning.specs.declared.state.Mode.TheVariants.{Raising}
use Rattle.ada_meaning.specs.declared.state.Value.{Value}
use Rattle.ada_meaning.specs.declared.state.Value.TheVariants.{Null, Names, Scalar, Part}
use Rattle.ada_meaning.specs.Event.{Event, Followed, Quiet}
use Rattle.ada_meaning.specs.Frame.{Frame}
use Rattle.ada_meaning.specs.Frame as frame
use Rattle.ada_meaning.specs.Heap.{Cell, Found, on_null, on_gone, on_other, finds}
use Rattle.ada_meaning.specs.State.{home_of, pool_freed_to}
use Rattle.ada_meaning.specs.Step.{halts, moves, all_tasks, same_pool, held, places, freeing, free_next, freed_next, free_component_next, free_in_next, frees_next}
use Rattle.ada_meaning.specs.Named.{Object, State, named, object_at, look, standing, standing_by, all_alive, parted}
use Rattle.ada_typed.specs.Holding.{HasKind, cells_of}
use Rattle.ada_untouched.specs.Untouched.{IsInSight}
use Rattle.ada_reaching.specs.Apart.{IsLeftOf, whole}
use Rattle.ada_reaching.specs.Reaching.{IsElsewhere, begins_anew}
use Rattle.ada_reaching.specs.Forms.{may_follow, may_end, selectors_shun}
use Rattle.ada_reaching.specs.Law.{GhostsStay, AllGoOn}
use Rattle.ada_reaching.proofs.Elsewhere.{elsewhere_at}
use Rattle.ada_reaching.proofs.Going.{World, variables_in, Runs, Left, On, Goes, ValueSeeks, anew_quiet, anew_stands, changed_run, stays, jumps}
use Rattle.ada_reaching.proofs.Paths.{IsThere, found_there, Sound, Fine, may_seek, component_elsewhere, in_sight, holder_goes}
use Rattle.ada_reaching.proofs.Selections.{IsRooted, held_in, named_kind, named_access}
use Rattle.ada_reaching.proofs.Treats.{ending_left, ending_anew}

-- The object is there that stands.
standing_there :
    (heap : List Object) (o : Id) (x : Object) (cell : Cell Value) (stands : Bool) → object_at heap o ≡ Some x
    → (if stands then finds x.cell else on_gone) ≡ finds cell → IsThere heap (Names o) cell
standing_there heap o x cell true at is = record { name = o; object = x; named_so = refl; there = at; own = cc }
standing_there heap o x cell false at is = absurd (cc)

-- So it is, if there is one.
standing_at :
    (heap : List Object) (o : Id) (found : Option Object) (cell : Cell Value) → object_at heap o ≡ found → standing_by found ≡ finds cell
    → IsThere heap (Names o) cell
standing_at heap o None cell at is = absurd (cc)
standing_at heap o (Some x) cell at is = standing_there heap o x cell (x.listed && all_alive x.cell.parts) at is

-- So it is with the object that a value names.
stands_there : (heap : List Object) (v : Value) (cell : Cell Value) → standing heap v ≡ finds cell → IsThere heap v cell
stands_there heap Null cell is = absurd (cc)
stands_there heap (Names o) cell is = standing_at heap o (object_at heap o) cell refl is
stands_there heap (Scalar v) cell is = absurd (cc)
stands_there heap (Part o place) cell is = absurd (cc)

-- Two that are the same where both are something.
same_access : {t u : ℕ} → Some t ≡ Some u → t ≡ u
same_access e = cc

-- So it is with kinds.
pub same_kind : {k l : VariableKind} → Some k ≡ Some l → k ≡ l
same_kind e = cc

module _ (w : World) where
  -- What stands so may be freed.
  abbrev MayEnd : Found (Cell Value) → Type 0
  MayEnd found = (cell : Cell Value) → found ≡ finds cell → w.apart.ends cell.access ≡ true

  -- What a component of an object holds is no ghost, where it may be followed.
  pub component_sight :
      (s : State) (o : Id) (x : Object) (c : ℕ) (v : Value) → Fine w s → GhostsStay w.ghosts w.before s.heap → object_at s.heap o ≡ Some x
      → slice_get x.cell.values c ≡ Some v → may_follow w.shuns (kind_among (reached_components w.p.types x.cell.access) c) ≡ true → IsInSight w.ghosts v
  component_sight s o x c v fine same at holds may =
      let own = held_in w.p.types s.heap fine o x c v at holds in
      in_sight w s.heap same v
      (λ q y e found.
      let kind = named_kind w.p.types s.heap fine own.0 q y (subst (λ (u : Value). HasKind w.p.types (cells_of s.heap) (held_kind own.0) u) e own.2) found in
      may_seek w s.heap same q y (subst (λ (u : Value). IsElsewhere w.ghosts w.unnamed u) e
      (component_elsewhere w s.heap same own.0 v (own.3 w.types_fit) own.2)) found
      (ap (λ (k : VariableKind). may_follow w.shuns (Some k)) (sym kind) ∙ ap (may_follow w.shuns) (sym own.1) ∙ may))

  -- So it is with what a variable holds.
  pub variable_sight :
      (s : State) (v : Value) (own : TypeNo) → Fine w s → GhostsStay w.ghosts w.before s.heap → IsElsewhere w.ghosts w.unnamed v
      → HasKind w.p.types (cells_of s.heap) (variable.Access own) v
      → may_follow w.shuns (Some (variable.Access own)) ≡ true → IsInSight w.ghosts v
  variable_sight s v own fine same other has may =
      in_sight w s.heap same v
      (λ q y e found.
      let names = subst (λ (u : Value). HasKind w.p.types (cells_of s.heap) (variable.Access own) u) e has in
      let access : own.0 ≡ y.cell.access = same_access (named_access w.p.types s.heap fine (variable.Access own) q y names found) in
      may_seek w s.heap same q y (subst (λ (u : Value). IsElsewhere w.ghosts w.unnamed u) e other) found (ap (λ (t : ℕ). not (w.shuns t)) (sym access) ∙ may))

  module _ (tds : List TypeDefinition) (own : w.apart.definitions ≡ tds) where
    -- A Free goes on: what it frees is finalized first.
    freeing_goes :
        (same : Bool) (access : ℕ) (v : Value) (cell : Cell Value) (clears : Frame Value) (e : Event Value) (s : State)
        → IsInSight w.ghosts v → w.apart.ends cell.access ≡ true → Runs w s → Left w (clears ∷ s.control)
        → begins_anew (clears ∷ s.control) ≡ true
        → AllGoOn (On w) (if same then moves e (freeing named tds access v cell clears s) else halts (Erroneous GivesElsewhere))
    freeing_goes false access v cell clears e s sight may r h anew = tt
    freeing_goes true access v cell clears e s sight may r h anew =
        let behind = frame.Ends v ∷ frame.GivesBack v (Freeing s.next) (Some (pool_freed_to (home_of access s.masters))) ∷ clears ∷ s.control in
        let all : IsLeftOf w.apart.definitions WholeFirst cell.access (all_tasks tds cell.access WholeFirst) =
        subst (λ (ts : List TypeDefinition). IsLeftOf w.apart.definitions WholeFirst cell.access (all_tasks ts cell.access WholeFirst)) own whole in
        let left = ending_left w v (Freeing s.next) (all_tasks tds cell.access WholeFirst) behind refl sight (cell.access, inl (may, all))
        (sight, refl, (sight, anew_quiet (clears ∷ s.control) anew, h)) refl in
        stays w (freeing named tds access v cell clears s) (changed_run w parted v s.activations s.masters s.heap sight r) left.0
        (ending_anew w v (Freeing s.next) (all_tasks tds cell.access WholeFirst) behind refl refl (anew_stands (clears ∷ s.control) anew))

    -- The bodies go on as what a variable names is freed.
    free_goes :
        (access x : ℕ) (v : Value) (found : Found (Cell Value)) (s : State) → IsInSight w.ghosts v → MayEnd found
        → Goes w s (free_next named tds access x v found s)
    free_goes access x v on_null s sight may r h anew = stays w s r h anew
    free_goes access x v on_gone s sight may r h anew = tt
    free_goes access x v on_other s sight may r h anew = tt
    free_goes access x v (finds cell) s sight may r h anew =
        freeing_goes (same_pool (Some (pool_freed_to (home_of access s.masters))) cell.home.pool) access v cell (frame.Clears x) Quiet s sight (may cell refl) r
        (tt, anew, h) refl

    -- The bodies go on as what a component names is freed.
    freed_goes :
        (access : ℕ) (holder : Value) (c : ℕ) (v : Value) (found : Found (Cell Value)) (s : State) → IsInSight w.ghosts v → MayEnd found
        → IsInSight w.ghosts holder
        → Goes w s (freed_next named tds access holder c v found s)
    freed_goes access holder c v on_null s sight may holds r h anew = stays w s r h anew
    freed_goes access holder c v on_gone s sight may holds r h anew = tt
    freed_goes access holder c v on_other s sight may holds r h anew = tt
    freed_goes access holder c v (finds cell) s sight may holds r h anew =
        freeing_goes (same_pool (Some (pool_freed_to (home_of access s.masters))) cell.home.pool) access v cell (frame.ClearsIn holder c) (Followed holder) s
        sight (may cell refl) r (holds, anew, h) refl

    -- What a component of an object names may be freed, where its kind says so.
    component_ends :
        (s : State) (o : Id) (x : Object) (c : ℕ) (v : Value) → Fine w s → object_at s.heap o ≡ Some x → slice_get x.cell.values c ≡ Some v
        → may_end w.apart (kind_among (reached_components w.p.types x.cell.access) c) ≡ true → MayEnd (standing s.heap v)
    component_ends s o x c v fine at holds ends = λ cell is.
        let held = held_in w.p.types s.heap fine o x c v at holds in
        let f = stands_there s.heap v cell is in
        let has : HasKind w.p.types (cells_of s.heap) (held_kind held.0) (Names f.name) =
        subst (λ (u : Value). HasKind w.p.types (cells_of s.heap) (held_kind held.0) u) f.named_so held.2 in
        let kind = named_kind w.p.types s.heap fine held.0 f.name f.object has f.there in
        subst (λ (d : Cell Value). w.apart.ends d.access ≡ true) f.own
        (ap (λ (k : VariableKind). may_end w.apart (Some k)) (sym kind) ∙ ap (may_end w.apart) (sym held.1) ∙ ends)

    -- The bodies go on as a component is read that is freed.
    free_component_goes :
        (access : ℕ) (holder : Value) (c : ℕ) (o : Id) (x : Object) (found : Option Value) (s : State) → Fine w s → object_at s.heap o ≡ Some x
        → slice_get x.cell.values c ≡ found
        → may_end w.apart (kind_among (reached_components w.p.types x.cell.access) c) ≡ true
        → may_follow w.shuns (kind_among (reached_components w.p.types x.cell.access) c) ≡ true → IsInSight w.ghosts holder
        → Goes w s (free_component_next named tds access holder c found s)
    free_component_goes access holder c o x None s fine at holds ends may sight r h anew = tt
    free_component_goes access holder c o x (Some v) s fine at holds ends may sight r h anew =
        freed_goes access holder c v (standing s.heap v) s (component_sight s o x c v fine r.same at holds may)
        (component_ends s o x c v fine at holds ends) sight r h anew

    -- The bodies go on by what is found of the object of which a component is freed.
    free_found_goes :
        (access : ℕ) (holder : Value) (c : ℕ) (found : Found (Cell Value)) (s : State) → Fine w s → look s.heap holder ≡ found
        → ValueSeeks w s.heap holder (frame.FreesIn access c ∷ s.control)
        → Goes w s (free_in_next named tds access holder c found s)
    free_found_goes access holder c on_null s fine is seeks r h anew = jumps w (Raising ConstraintError) s r h anew
    free_found_goes access holder c on_gone s fine is seeks r h anew = tt
    free_found_goes access holder c on_other s fine is seeks r h anew = tt
    free_found_goes access holder c (finds cell) s fine is seeks r h anew =
        let f = found_there s.heap holder cell is in
        free_component_goes access holder c f.name f.object (slice_get cell.values c) s fine f.there (ap (λ (own : Cell Value). slice_get own.values c) f.own)
        (seeks f.name f.object f.named_so f.there).2 (seeks f.name f.object f.named_so f.there).1
        (in_sight w s.heap r.same holder (λ o x e at. (seeks o x e at).0)) r h anew

    -- The bodies go on as the object is looked for of which a component is freed.
    pub free_in_goes :
        (access : ℕ) (holder : Value) (c : ℕ) (s : State) → Fine w s
        → ValueSeeks w s.heap holder (frame.FreesIn access c ∷ s.control)
        → Goes w s (free_in_next named tds access holder c (look s.heap holder) s)
    free_in_goes access holder c s fine seeks r h anew = free_found_goes access holder c (look s.heap holder) s fine refl seeks r h anew

    -- What a variable names may be freed, where its access type says so.
    variable_ends :
        (s : State) (v : Value) (access : TypeNo) → Fine w s → HasKind w.p.types (cells_of s.heap) (variable.Access access) v
        → may_end w.apart (Some (variable.Access access)) ≡ true → MayEnd (standing s.heap v)
    variable_ends s v access fine has ends = λ cell is.
        let f = stands_there s.heap v cell is in
        let names : HasKind w.p.types (cells_of s.heap) (variable.Access access) (Names f.name) =
        subst (λ (u : Value). HasKind w.p.types (cells_of s.heap) (variable.Access access) u) f.named_so has in
        let same : access.0 ≡ f.object.cell.access = same_access (named_access w.p.types s.heap fine (variable.Access access) f.name f.object names f.there) in
        subst (λ (d : Cell Value). w.apart.ends d.access ≡ true) f.own (ap w.apart.ends (sym same) ∙ ends)

    -- The bodies go on as a Free begins.
    pub frees_go :
        (cs : List ℕ) (access x : ℕ) (to : TypeNo) (s : State) → Sound w s → IsRooted w.p.types (variables_in w) x cs (variable.Access to)
        → may_end w.apart (Some (variable.Access to)) ≡ true → may_follow w.shuns (Some (variable.Access to)) ≡ true
        → selectors_shun w.p.types w.shuns (variable_kind (variables_in w) x) cs ≡ true → Goes w s (frees_next named tds cs access x s)
    frees_go [] access x to s sound root ends may shun r h anew =
        let kind : root.from ≡ variable.Access to = same_kind root.leads in
        let has : HasKind w.p.types (cells_of s.heap) (variable.Access to) (held named s x) =
        subst (λ (k : VariableKind). HasKind w.p.types (cells_of s.heap) k (held named s x)) kind (sound.holds x root.from root.held) in
        free_goes access x (held named s x) (standing s.heap (held named s x)) s (variable_sight s (held named s x) to sound.filled r.same
        (elsewhere_at w.ghosts w.unnamed (places s) x r.places) has may)
        (variable_ends s (held named s x) to sound.filled has ends) r h anew
    frees_go (c ∷ cs) access x to s sound root ends may shun r h anew =
        holder_goes w c cs x (variable.Access to) (λ last. frame.FreesIn access last) s sound root shun r (λ n. (tt, anew, h)) (λ n. refl)
        (λ seen u n is_seen is. (is_seen, ap (may_follow w.shuns) is ∙ may, ap (may_end w.apart) is ∙ ends))
