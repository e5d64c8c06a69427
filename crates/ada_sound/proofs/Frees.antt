-- Free (X).

use Rattle.std.proofs.Common.{subst, ◌≡◌, ℕ, Bool, true, false, List, ◌∷◌, refl, sym, ◌∙◌, inl}
use Rattle.std.specs.Prelude.{Some, None}
use Rattle.std.specs.List.{slice_set}
use Rattle.ada_text.specs.declared.spot.Spot.{Spot}
use Rattle.ada_program.specs.Form.{StmtsForm}
use Rattle.ada_flow.specs.declared.rule.Hold.{Hold}
use Rattle.ada_flow.specs.declared.rule.Hold.TheVariants as hold
use Rattle.ada_program.specs.WellFormed.{is_access}
use Rattle.ada_flow.specs.Flow.{Holds, hold_at, variable_access, lost_by, freed, released}
use Rattle.ada_meaning.specs.declared.state.Value.{Value}
use Rattle.ada_meaning.specs.declared.state.Value.TheVariants.{Null, Names, Scalar, Part}
use Rattle.ada_parts.specs.declared.tasks.Direction.TheVariants.{WholeFirst}
use Rattle.ada_program.specs.declared.program.TypeDefinition.{TypeDefinition}
use Rattle.ada_meaning.specs.declared.event.Cause.TheVariants.{Freeing}
use Rattle.ada_meaning.specs.Frame.{Does, Ends, GivesBack, Clears, ends}
use Rattle.ada_meaning.specs.Event.{Quiet}
use Rattle.ada_meaning.specs.State.{Activation, home_of, pool_freed_to}
use Rattle.ada_meaning.specs.Step.{all_tasks, free_next}
use Rattle.ada_meaning.specs.Named.{State, named, parted}
use Rattle.ada_sound.proofs.Fits.{NoOuterAlias, is_object, IsOwn, IsSaid, place_at, weaker_fit, null_fit, behind_fit, freed_unnamed, variable_inside, less_unnamed, same_unnamed, part_fit}
use Rattle.ada_sound.proofs.Objects.{set_here}
use Rattle.ada_sound.proofs.Homes.{HaveHomes, same_one, stands_there, freed_home}
use Rattle.ada_sound.proofs.Stored.{listed_out, stored_part}
use Rattle.ada_sound.proofs.Alters.{alters_set}
use Rattle.ada_sound.proofs.Taken.{root_access}
use Rattle.ada_sound.proofs.Invariant.{CoveredIn, EndsWellBy, FreesWell, outers, Known, Control, Rooms, Goes, To, RunsOn, Working, Ending, Stepped, Fine}
use Rattle.ada_sound.proofs.Ready.{running, runs_on, treats_ready}

-- An owner is not lost.
own_kept : (h : Hold) (spot : Spot) → IsOwn h → lost_by h spot ≡ None
own_kept hold.Null spot own = absurd own
own_kept (hold.Kept r) spot own = refl
own_kept (hold.Own r) spot own = refl
own_kept (hold.Alias r) spot own = absurd own
own_kept hold.Lost spot own = absurd own

-- What is left goes on behind it; and of what the finalization of an object of this type may free, no suspended activation and no variable has an alias, and the
-- running body may free it (7.6.1).
abbrev pub FreesTo : Known → (access : ℕ) → Control → Rooms → Holds → Type 0
FreesTo known t k rooms holds = RunsOn known k rooms holds × EndsWellBy known t holds

module _ (known : Known) (a : Activation Value) (rest : List (Activation Value)) (s : State) (types : List TypeDefinition) (access x : ℕ) (none : is_object known.program.variables x ≡ false) (spot : Spot) (fs : StmtsForm) (k : Control) (raised : Rooms → Holds → Type 0) (may : ℕ → Bool) (homes : HaveHomes may known.program.types (outers known) s.heap s.masters) (freely : may access ≡ true) (own_type : ℕ) (by_own : own_type ≡ access) (of_type : variable_access known.program.variables x ≡ Some own_type) (is_type : is_access known.program.types own_type ≡ true) (spares : NoOuterAlias known.program.types (outers known) own_type × CoveredIn known.implicit known.program own_type) (w : Working known s.heap a.places s.masters (λ rooms holds. Goes (released known.program.variables x spot holds (hold_at holds x)) (To (FreesTo known own_type (Does fs ∷ k) rooms)) (raised rooms))) where
  -- X is null: nothing happens.
  free_null : place_at a.places x ≡ Null → To (FreesTo known own_type (Does fs ∷ k) w.rooms) (freed known.program.variables x w.holds) → Stepped known s.heap Quiet (running (Does fs ∷ k) a rest s)
  free_null is more = runs_on known (Does fs ∷ k) a rest s (record { rooms = w.rooms; holds = more.0; stored = w.stored; roomed = w.roomed; fit = weaker_fit more.0 more.1 (null_fit x none is (behind_fit (variable_access known.program.variables x) w.fit)); rest = more.2.0 }) Quiet tt

  -- X owns an object: that leaves its collection, and nothing relies on it then.
  free_value : (v : Value) → place_at a.places x ≡ v → IsOwn (hold_at w.holds x) → To (FreesTo known own_type (Does fs ∷ k) w.rooms) (freed known.program.variables x w.holds) → Fine known s.heap s.masters (free_next named types access x v (named.standing s.heap v) (running (Does fs ∷ k) a rest s))
  free_value Null is own more = free_null is more
  free_value (Names o) is own more =
      let after = freed_unnamed x o (λ t same. (let one : own_type ≡ t = cc (of_type, same) in rw (← one) (is_type, spares.0))) none own is w.fit in
      let there = after.2 in
      let found = there.1 in
      let exists = (w.stored.sane o there.0 found).there_exists there.2 in
      let of_own = root_access w.fit x spot o there.0 (own_kept (hold_at w.holds x) spot own) is found in
      let one : own_type ≡ there.0.cell.access = cc (of_type, of_own) in
      let stands = stands_there o there.0 homes w.stored found there.2 (rw (← one) is_type) (rw (← one, by_own) freely) (variable_inside x o own is w.fit) in
      let out = listed_out o there.0 found stands.0 w.stored in
      let home = freed_home access o there.0 homes w.stored found out (rw (← one) is_type) (sym one ∙ by_own) in
      let here = set_here s.heap o.0 there.0 (parted there.0) found in
      let well : FreesWell known (slice_set s.heap o.0 (parted there.0)) (Some o) more.0 = λ object at. (
      let same : object ≡ parted there.0 = cc (at, here) in
      rw (same, ← one) (more.2.1)
      ) in
      let under : Ending known o (GivesBack (Names o) (Freeing s.next) (Some (pool_freed_to (home_of access s.masters))) ∷ Clears x ∷ Does fs ∷ k) (slice_set s.heap o.0 (parted there.0)) a.places s.masters = record {
        object = parted there.0;
        found = set_here s.heap o.0 there.0 (parted there.0) found;
        exists = exists;
        out = out;
        parted = refl;
        stored = stored_part o there.0 found w.stored;
        covered = (subst (λ (u : ℕ). CoveredIn known.implicit known.program u) one spares.1, rw (← one) is_type);
        rest = (
          refl,
          home,
          record {
            rooms = w.rooms;
            holds = more.0;
            roomed = w.roomed;
            fit = weaker_fit more.0 more.1 (part_fit o there.0 found after.0);
            aside = (less_unnamed more.0 more.1 o (part_fit o there.0 found after.0) (same_unnamed s.heap o there.0 found o after.1 (parted there.0) refl (λ c. refl)), after.3);
            rest = (more.2.0, well);
          },
        );
      } in
      rw (found, stands.0, stands.1) (rw (same_one (Some (pool_freed_to (home_of access s.masters))) there.0.cell.home.pool home) (rw found (record {
        ready = (
          tt,
          treats_ready known (Names o) (ends (Freeing s.next)) (all_tasks types there.0.cell.access WholeFirst) (Ends (Names o) ∷ GivesBack (Names o) (Freeing s.next) (Some (pool_freed_to (home_of access s.masters))) ∷ Clears x ∷ Does fs ∷ k) (slice_set s.heap o.0 (parted there.0)) a.places a.operands s.masters (refl, under) tt,
        );
        alters = alters_set s.heap Quiet o there.0 (parted there.0) found (refl, refl, refl) (λ h. h) (λ h. inl h);
        says = tt;
      })))
  free_value (Scalar n) is own more = tt
  free_value (Part object_id base) is own more = tt

  free_hold : (h : Hold) → hold_at w.holds x ≡ h → Goes (released known.program.variables x spot w.holds h) (To (FreesTo known own_type (Does fs ∷ k) w.rooms)) (raised w.rooms) → IsSaid (place_at (outers known).given x) h (place_at a.places x) → Fine known s.heap s.masters (free_next named types access x (place_at a.places x) (named.standing s.heap (place_at a.places x)) (running (Does fs ∷ k) a rest s))
  free_hold hold.Null own more blank = rw blank (free_null blank more.0)
  free_hold (hold.Kept r) own more blank = free_value (place_at a.places x) refl (rw own tt) more.0
  free_hold (hold.Own r) own more blank = free_value (place_at a.places x) refl (rw own tt) more.0
  free_hold (hold.Alias r) own more blank = absurd more
  free_hold hold.Lost own more blank = absurd more

  pub free_fine : Fine known s.heap s.masters (free_next named types access x (place_at a.places x) (named.standing s.heap (place_at a.places x)) (running (Does fs ∷ k) a rest s))
  free_fine = free_hold (hold_at w.holds x) refl w.rest (w.fit.said x)
