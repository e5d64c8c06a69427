-- Free (P.C): the object of the component is found, what the component names is to end, and the component becomes null.

use Rattle.std.proofs.Common.{subst, ◌≡◌, ◌≢◌, ℕ, Bool, true, false, ◌||◌, ◌==◌, List, [], ◌∷◌, ◌++◌, refl, sym, ap, ◌∙◌, ◌⊎◌, inl, inr}
use Rattle.std.proofs.lemmas.Bool.{eqb-true, eq-eqb}
use Rattle.std.specs.Prelude.{Option, Some, None}
use Rattle.std.specs.List.{slice_get, slice_set}
use Rattle.ada_text.specs.declared.spot.Spot.{Spot}
use Rattle.ada_parts.specs.declared.tasks.Direction.TheVariants.{WholeFirst}
use Rattle.ada_program.specs.declared.program.TypeDefinition.{TypeDefinition}
use Rattle.ada_program.specs.declared.program.Exception.{Exception}
use Rattle.ada_program.specs.declared.program.Exception.TheVariants.{ConstraintError}
use Rattle.ada_program.specs.declared.program.VariableKind.{VariableKind}
use Rattle.ada_program.specs.Form.{PathForm, StmtsForm}
use Rattle.ada_effects.specs.Effects.{Implicit, path_raises}
use Rattle.ada_program.specs.ProgramForm.{TypeForm, VariableForm}
use Rattle.ada_program.specs.WellFormed.{is_access, access_of, variable_kind, selected_kind, selectors_kind, root_kind, path_kind, path_access, is_this, is_freed_by}
use Rattle.ada_flow.specs.declared.rule.Hold.{Hold}
use Rattle.ada_flow.specs.declared.rule.Hold.TheVariants as hold
use Rattle.ada_flow.specs.Flow.{Holds, hold_at, Breach, lost_by, unless_broken, ends_with, behind_end, passes_type, passes_own, passes_reached, formal_reached, way_reached, freed_behind, released_behind, frees_seen}
use Rattle.ada_flow.specs.Tracking.{no_tracks}
use Rattle.ada_meaning.specs.declared.state.Id.{Id}
use Rattle.ada_meaning.specs.declared.state.Value.{Value}
use Rattle.ada_meaning.specs.declared.state.Value.TheVariants.{Null, Names, Scalar, Part}
use Rattle.ada_meaning.specs.declared.state.Mode.TheVariants.{Raising}
use Rattle.ada_meaning.specs.Event.{Followed}
use Rattle.ada_meaning.specs.declared.event.Cause.TheVariants.{Freeing}
use Rattle.ada_meaning.specs.Frame.{Does, FreesIn, Ends, GivesBack, ClearsIn, ends}
use Rattle.ada_meaning.specs.State.{Activation, home_of, pool_freed_to}
use Rattle.ada_meaning.specs.Step.{all_tasks, before_last, last_of, path_next, freed_next, free_component_next, free_in_next}
use Rattle.ada_meaning.specs.Named.{store, Object, State, object_at, look, named, parted, whole, inside}
use Rattle.ada_typed.specs.Holding.{cells_of}
use Rattle.ada_typed.proofs.Values.{AreHeld}
use Rattle.ada_owners.specs.Keeping.{IsThere}
use Rattle.ada_owners.specs.Places.{is_there, access_at}
use Rattle.ada_owners.specs.Reliance.{IsOf}
use Rattle.ada_owners.proofs.Objects.{present_at}
use Rattle.ada_sound.proofs.Fits.{Outsiders, IsOwnedOutside, NamesOwnedOutside, NoOuterAlias, MayFollow, place_at, component_access, component_is, component_inside, weaker_fit, behind_fit, component_unnamed, less_unnamed, same_unnamed, part_fit}
use Rattle.ada_sound.proofs.Objects.{set_here}
use Rattle.ada_sound.proofs.Stored.{listed_out, stored_part}
use Rattle.ada_sound.proofs.Alters.{alters_set}
use Rattle.ada_sound.proofs.Assigned.{this_is, freed_at}
use Rattle.ada_sound.proofs.Homes.{HaveHomes, same_one, stands_there, freed_home}
use Rattle.ada_sound.proofs.Invariant.{AreRecords, Spares, CoveredIn, begun, outers, Known, Control, Goes, To, Raised, RunsOn, PassesNone, PassesNoneOwn, SparesHolder, EndsWellBy, FreesWell, Releasing, Working, Ending, Stepped, Fine, ways}
use Rattle.ada_sound.proofs.Ready.{running, at_work, stays, runs_ready, jumps_less, treats_ready}
use Rattle.ada_sound.proofs.Outcomes.{ends_goes}
use Rattle.ada_sound.proofs.Roots.{access_leads, kept_hold, root_object, object_there, front_raises}
use Rattle.ada_sound.proofs.Handings.{or_false}
use Rattle.ada_sound.proofs.Begins.{Root, IsAlone, IsPart, root_at, root_access, root_follows, kind_named, first_leads}
use Rattle.ada_sound.proofs.Walks.{selected_access, raises_less, finds_fine}
use Rattle.ada_sound.proofs.Targets.{followed}
use Rattle.ada_sound.proofs.Endings.{stored_elsewhere}
use Rattle.ada_sound.proofs.Frees.{FreesTo}
use Rattle.ada_sound.proofs.Holders.{holder_aside}

-- The selectors of a path but the last one, and that one, are all.
front_last : (c : ℕ) (cs : List ℕ) → before_last c cs ++ last_of c cs ∷ [] ≡ c ∷ cs
front_last c [] = refl
front_last c (d ∷ ds) = ap (λ (es : List ℕ). c ∷ es) (front_last d ds)

-- What flow says of a component that is freed: its path follows nothing lost, and the way to it is safe.
released_goes : (types : List TypeForm) (variables : List VariableForm) (implicit : Implicit) (path : PathForm) (holds : Holds) (access : Option ℕ) (more raised : Holds → Type 0) → Goes (released_behind types variables no_tracks implicit path holds access) more raised → (freed_behind (way_reached types variables implicit path (hold_at holds path.root) access) (hold_at holds path.root) path.spot ≡ None) × more (behind_end variables access holds) × (path_raises path ≡ true → raised (behind_end variables access holds))
released_goes types variables implicit path holds access more raised g = go (freed_behind passes (hold_at holds path.root) path.spot) refl g
  where
    passes : Bool
    passes = way_reached types variables implicit path (hold_at holds path.root) access

    after : Holds
    after = behind_end variables access holds

    go : (o : Option Breach) → freed_behind passes (hold_at holds path.root) path.spot ≡ o → Goes (unless_broken o (ends_with (path_raises path) after after)) more raised → (freed_behind passes (hold_at holds path.root) path.spot ≡ None) × more after × (path_raises path ≡ true → raised after)
    go None is m =
        let n = ends_goes (path_raises path) after after more raised m in
        (is, n.0, n.1)
    go (Some breach) is m = absurd m

freed_kept : (b : Bool) (h : Hold) (spot : Spot) → freed_behind b h spot ≡ None → (lost_by h spot ≡ None) × (b ≡ false)
freed_kept false h spot e = (e, refl)
freed_kept true hold.Null spot e = absurd (cc e)
freed_kept true (hold.Kept r) spot e = absurd (cc e)
freed_kept true (hold.Own r) spot e = absurd (cc e)
freed_kept true (hold.Alias r) spot e = absurd (cc e)
freed_kept true hold.Lost spot e = absurd (cc e)

-- Where neither of two is true, the first one is not.
first_false : (a b : Bool) → a || b ≡ false → a ≡ false
first_false true b e = absurd (cc e)
first_false false b e = refl

passes_none : (types : List TypeForm) (variables : List VariableForm) (path : PathForm) (cs : List ℕ) (access : Option ℕ) → path.selectors ≡ cs → passes_own types variables path access ≡ false → PassesNone types (variable_kind variables path.root) cs access
passes_none types variables path cs None is e = tt
passes_none types variables path cs (Some t) is e = rw is at e

-- From where the path begins it passes its own type nowhere, either: an object that a call refers to is of another one, or owned outside.
or_both : (a b : Bool) → a ≡ false → b ≡ false → a || b ≡ false
or_both true b x y = absurd (cc x)
or_both false b x y = y

passes_root : (types : List TypeForm) (outer : Outsiders) (heap : List Object) (kind : Option VariableKind) (v : Value) (b : Root types outer.referenced heap kind v) (c : ℕ) (cs : List ℕ) (to : VariableKind) (access : Option ℕ) → selectors_kind types kind (c ∷ cs) ≡ Some to → ((t : ℕ) → access ≡ Some t → (is_access types t ≡ true) × NoOuterAlias types outer t) → PassesNone types kind (c ∷ cs) access → PassesNoneOwn types outer (whole v) b.from (inside v c ∷ cs) access
passes_root types outer heap kind v b c cs to None leads spares passes = inl tt
passes_root types outer heap kind v b c cs to (Some t) leads spares passes = by b.is
  where
    h : (k : VariableKind) × (selected_kind types kind c ≡ Some k)
    h = first_leads types kind c cs to leads

    same : selected_kind types b.from (inside v c) ≡ selected_kind types kind c
    same = b.leads c [] h.0 h.1 ∙ sym h.1

    later : passes_type types (selected_kind types b.from (inside v c)) cs t ≡ false
    later = let behind = or_false (is_this t (access_of kind)) (passes_type types (selected_kind types kind c) cs t) passes in rw same behind

    by : IsAlone kind b.from v ⊎ IsPart types outer.referenced kind b.from v → PassesNoneOwn types outer (whole v) b.from (inside v c ∷ cs) (Some t)
    by (inl a) = inl (rw (a.2, a.1 c) passes)
    by (inr a) = go (a.t == t) refl
      where
        go : (e : Bool) → (a.t == t) ≡ e → PassesNoneOwn types outer (whole v) b.from (inside v c ∷ cs) (Some t)
        go false other =
            let here : is_this t (access_of b.from) ≡ false = rw a.from_is other in
            inl (or_both (is_this t (access_of b.from)) (passes_type types (selected_kind types b.from (inside v c)) cs t) here later)
        go true own =
            let one : a.t ≡ t = eqb-true a.t t own in
            let n = spares t refl in
            let outside : IsOwnedOutside outer a.o = n.1.1 a.o (rw one at (a.refers)) n.0 in
            let names : NamesOwnedOutside outer (whole v) = rw a.is outside in
            inr (names, later)

module _ (known : Known) (a : Activation Value) (rest : List (Activation Value)) (s : State) where
  -- A Free of a component begins: its object is found first.
  pub free_begins : (c : ℕ) (cs : List ℕ) (access : ℕ) (path : PathForm) (fs : StmtsForm) (k : Control) (among : Exception → Bool) → (path_raises path ≡ true → among ConstraintError ≡ true) → is_freed_by known.program.types access (path_access known.program.types known.program.variables path) ≡ true → is_this access (path_access known.program.types known.program.variables path) ≡ true → Spares known (λ t. is_this t (path_access known.program.types known.program.variables path)) → path.selectors ≡ c ∷ cs → AreHeld known.program.types (cells_of s.heap) known.program.variables a.places → AreRecords known → Working known s.heap a.places s.masters (λ rooms holds. Goes (frees_seen known.program.types known.program.variables no_tracks false known.implicit (c ∷ cs) path holds) (To (FreesTo known access (Does fs ∷ k) rooms)) (Raised among (ways known k rooms))) → Fine known s.heap s.masters (path_next named (before_last (inside (place_at a.places path.root) c) cs) (begun a.places path) (running (FreesIn access (last_of (inside (place_at a.places path.root) c) cs) ∷ Does fs ∷ k) a rest s))
  free_begins c cs access path fs k among may freed by_own spares is held objects w =
      let types = known.program.types in
      let variables = known.program.variables in
      let own = path_access types variables path in
      let at = freed_at types variables access path freed in
      let leads = access_leads (path_kind types variables path) at.0 at.1 in
      let g = released_goes types variables known.implicit path w.holds own (To (FreesTo known access (Does fs ∷ k) w.rooms)) (Raised among (ways known k w.rooms)) w.rest in
      let kept = freed_kept (way_reached types variables known.implicit path (hold_at w.holds path.root) own) (hold_at w.holds path.root) path.spot g.0 in
      let own_or_reached = passes_own types variables path own || passes_reached types variables known.implicit path own in
      let none_on_way = first_false own_or_reached (formal_reached types variables known.implicit path (hold_at w.holds path.root) own) kept.1 in
      let formal_spared = or_false own_or_reached (formal_reached types variables known.implicit path (hold_at w.holds path.root) own) kept.1 in
      let none_own = first_false (passes_own types variables path own) (passes_reached types variables known.implicit path own) none_on_way in
      let none_reached = or_false (passes_own types variables path own) (passes_reached types variables known.implicit path own) none_on_way in
      let v = place_at a.places path.root in
      let b = root_at path.root path.spot kept.0 w.fit in
      let to = kind_named (selectors_kind types (variable_kind variables path.root) path.selectors) at.0 at.2 in
      let from_kind : selectors_kind types (variable_kind variables path.root) (c ∷ cs) ≡ Some to.0 = ap (λ (ds : List ℕ). selectors_kind types (variable_kind variables path.root) ds) (sym is) ∙ to.1 in
      let named_type : access_of (Some to.0) ≡ own = ap access_of (sym to.1) ∙ (at.2 ∙ sym at.1) in
      let from_here : selectors_kind types b.from (inside v c ∷ cs) ≡ Some to.0 = b.leads c cs to.0 from_kind in
      let spares_own : (t : ℕ) → own ≡ Some t → NoOuterAlias types (outers known) t = λ t same. (spares t (ap (is_this t) same ∙ eq-eqb t t refl)).0 in
      let is_own : (t : ℕ) → own ≡ Some t → is_access types t ≡ true = λ t same. (let one : at.0 ≡ t = let other = at.1 in cc (same, other) in rw (← one) at.3) in
      let of_own : own ≡ Some access = this_is access own by_own in
      let same_type : (t : ℕ) → own ≡ Some t → t ≡ access = λ t same. cc (same, of_own) in
      let leads_on : selectors_kind types (root_kind path.of_record (variable_kind variables path.root)) (c ∷ cs) ≡ Some leads.0 = ap (λ (ds : List ℕ). selectors_kind types (root_kind path.of_record (variable_kind variables path.root)) ds) (sym is) ∙ leads.1 in
      finds_fine known a rest s a.operands (FreesIn access (last_of (inside v c) cs) ∷ Does fs ∷ k) (before_last (inside v c) cs) (begun a.places path)
      (at_work w (record {
        from = b.from;
        access = own;
        is_from = λ o object names found. root_access b o object names found;
        passes = let here : PassesNoneOwn types (outers known) (whole v) b.from (before_last (inside v c) cs ++ last_of (inside v c) cs ∷ []) own = rw (front_last (inside v c) cs) (passes_root types (outers known) s.heap (variable_kind variables path.root) v b c cs to.0 own from_kind (λ t same. (is_own t same, spares_own t same)) (passes_none types variables path (c ∷ cs) own is none_own)) in here;
        of_type = rw (front_last (inside v c) cs) (ap access_of from_here ∙ named_type);
        frees_own = this_is access own by_own;
        own = is_own;
        spares = spares_own;
        covered = λ t same. (spares t (ap (is_this t) same ∙ eq-eqb t t refl)).1;
        raises = front_raises known (begun a.places path) (Does fs ∷ k) w.rooms (behind_end variables own w.holds) path.of_record c (inside v c) cs
            (λ whole. object_there path.root path.spot kept.0 (root_object types variables path leads.0 leads.1 whole) w.fit)
            (λ raises. (let follows : path_raises path ≡ true = rw is raises in g.2 follows ConstraintError (may follows)));
        spared = λ t u same holder is_holder.
            holder_aside w.fit held objects known.implicit path (kept_hold (hold_at w.holds path.root) path.spot kept.0) b c cs leads.0 own t u is leads_on same none_reached formal_spared holder is_holder;
        runs = (g.1.0, g.1.1, (g.1.2.0, λ t same. rw (same_type t same) (g.1.2.1)));
      }))
      (root_follows path.root path.spot kept.0 w.fit)

  module _ (types : List TypeDefinition) (access c : ℕ) (k : Control) (below : List Value) (may : ℕ → Bool) (homes : HaveHomes may known.program.types (outers known) s.heap s.masters) (freely : may access ≡ true) where
    -- The component is null: nothing happens.
    null_freed : (o : Id) → IsThere s.heap o → Working known s.heap a.places s.masters (Releasing known s.heap (Names o) [] access c k) → Stepped known s.heap (Followed (Names o)) (running k (record a { operands = below }) rest s)
    null_freed o there w =
        stays known (Followed (Names o)) (running k (record a { operands = below }) rest s)
        (tt, runs_ready known k s.heap a.places below s.masters (record { rooms = w.rooms; holds = w.rest.runs.0; stored = w.stored; roomed = w.roomed; fit = weaker_fit w.rest.runs.0 w.rest.runs.1 (behind_fit w.rest.access w.fit); rest = w.rest.runs.2.0 }))
        (followed o there)

    -- The component is of the type that is freed.
    names_own : (o : Id) (object : Object) → object_at s.heap o ≡ Some object → (w : Working known s.heap a.places s.masters (Releasing known s.heap (Names o) [] access c k)) → component_access known.program.types object c ≡ w.rest.access
    names_own o object found w =
        let here = w.rest.is_from o object refl found in
        sym (selected_access known.program.types w.rest.from object c here) ∙ w.rest.of_type

    -- What the component names has the component's access type, and is another object than its own: that one is of another type, or owned outside.
    named_type : (o : Id) (object : Object) (p : Id) → object_at s.heap o ≡ Some object → is_there object.stage ≡ true → slice_get object.cell.values c ≡ Some (Names p) → (w : Working known s.heap a.places s.masters (Releasing known s.heap (Names o) [] access c k)) → IsOf (access_at s.heap) w.rest.access p
    named_type o object p found listed at w =
        let same = names_own o object found w in
        rw same at (component_is o object c (Names p) p refl found listed at refl w.fit)

    other_type : (u : ℕ) (from : Option VariableKind) (t : ℕ) → access_of from ≡ Some u → PassesNone known.program.types from (c ∷ []) (Some t) → u ≢ t
    other_type u from t here passes same =
        let one : is_this t (Some u) ≡ true = eq-eqb u t same in
        cc (rw here at passes, one)

    other_object : (o : Id) (object : Object) (p : Id) (t : ℕ) → object_at s.heap o ≡ Some object → (w : Working known s.heap a.places s.masters (Releasing known s.heap (Names o) [] access c k)) → w.rest.access ≡ Some t → access_at s.heap p ≡ Some t → (IsOwnedOutside (outers known) p → ⊥) → o ≢ p
    other_object o object p t found w is_t of_t inner same = by w.rest.passes
      where
        by : PassesNoneOwn known.program.types (outers known) (Names o) w.rest.from (c ∷ []) w.rest.access → ⊥
        by (inl none) =
            let there = present_at s.heap p t of_t in
            let one : object ≡ there.object = let f = there.found in cc (rw same at found, f) in
            other_type object.cell.access w.rest.from t (w.rest.is_from o object refl found) (rw is_t at none) (ap (λ (x : Object). x.cell.access) one ∙ there.access)
        by (inr own) = inner (rw same at (own.0))

    ends_next : (o : Id) (object : Object) (p : Id) (t : ℕ) → object_at s.heap o ≡ Some object → is_there object.stage ≡ true → slice_get object.cell.values c ≡ Some (Names p) → (w : Working known s.heap a.places s.masters (Releasing known s.heap (Names o) [] access c k)) → w.rest.access ≡ Some t → access_at s.heap p ≡ Some t → Fine known s.heap s.masters (freed_next named types access (Names o) c (Names p) (named.standing s.heap (Names p)) (running k (record a { operands = below }) rest s))
    ends_next o object p t found held at w is_t of_t =
        let there = present_at s.heap p t of_t in
        let exists = (w.stored.sane p there.object there.found).there_exists there.there in
        let inner : IsOwnedOutside (outers known) p → ⊥ = component_inside o object c p refl found held at w.fit in
        let apart : o ≢ p = other_object o object p t found w is_t of_t inner in
        let unnamed = component_unnamed o object c p (Some t) (λ u e. (w.rest.own u (is_t ∙ e), w.rest.spares u (is_t ∙ e))) found held at of_t w.fit in
        let elsewhere = stored_elsewhere s.heap o object c p there.object (parted there.object) found there.found apart in
        let after = part_fit p there.object elsewhere.1 unnamed.0 in
        let aside = same_unnamed (store s.heap (Names o) c Null) p there.object elsewhere.1 p unnamed.1 (parted there.object) refl (λ c. refl) in
        let by_own : t ≡ access = let own = w.rest.frees_own in cc (is_t, own) in
        let stands = stands_there p there.object homes w.stored there.found there.there (rw there.access (w.rest.own t is_t)) (rw (there.access, by_own) freely) inner in
        let all_run : To (λ less. RunsOn known k w.rooms less × EndsWellBy known t less) (behind_end known.program.variables w.rest.access w.holds) = (w.rest.runs.0, w.rest.runs.1, (w.rest.runs.2.0, w.rest.runs.2.1 t is_t)) in
        let runs : To (λ less. RunsOn known k w.rooms less × EndsWellBy known t less) (behind_end known.program.variables (Some t) w.holds) = rw is_t at all_run in
        let out = listed_out p there.object there.found stands.0 w.stored in
        let home = freed_home access p there.object homes w.stored there.found out (rw there.access (w.rest.own t is_t)) (there.access ∙ by_own) in
        let leads : component_access known.program.types object c ≡ Some there.object.cell.access = names_own o object found w ∙ (is_t ∙ ap Some (sym there.access)) in
        let spared : SparesHolder known there.object.cell.access object.cell.access =
        rw there.access (w.rest.spared t object.cell.access is_t (w.rest.is_from o object refl found)) in
        let parts = set_here s.heap p.0 there.object (parted there.object) there.found in
        let well : FreesWell known (slice_set s.heap p.0 (parted there.object)) (Some p) runs.0 = λ other at. (
        let one : other ≡ parted there.object = cc (at, parts) in
        rw (one, there.access) (runs.2.1)
        ) in
        let under : Ending known p (GivesBack (Names p) (Freeing s.next) (Some (pool_freed_to (home_of access s.masters))) ∷ ClearsIn (Names o) c ∷ k) (slice_set s.heap p.0 (parted there.object)) a.places s.masters = record {
          object = parted there.object;
          found = set_here s.heap p.0 there.object (parted there.object) there.found;
          exists = exists;
          out = out;
          parted = refl;
          stored = stored_part p there.object there.found w.stored;
          covered = (subst (λ (u : ℕ). CoveredIn known.implicit known.program u) (sym there.access) (w.rest.covered t is_t), rw there.access (w.rest.own t is_t));
          rest = (
            refl,
            home,
            (
              (object, elsewhere.0, held),
              (λ same. apart (cc same)),
              (object, parted there.object, elsewhere.0, parts, leads, at, spared),
              record {
                rooms = w.rooms;
                holds = runs.0;
                roomed = w.roomed;
                fit = weaker_fit runs.0 runs.1 (rw elsewhere.2 after);
                aside = rw elsewhere.2 (less_unnamed runs.0 runs.1 p after aside, unnamed.2);
                rest = (runs.2.0, well);
              },
            ),
          );
        } in
        rw (there.found, stands.0, stands.1) (rw (same_one (Some (pool_freed_to (home_of access s.masters))) there.object.cell.home.pool home) (rw there.found (record {
          ready = (
            tt,
            treats_ready known (Names p) (ends (Freeing s.next)) (all_tasks types there.object.cell.access WholeFirst) (Ends (Names p) ∷ GivesBack (Names p) (Freeing s.next) (Some (pool_freed_to (home_of access s.masters))) ∷ ClearsIn (Names o) c ∷ k) (slice_set s.heap p.0 (parted there.object)) a.places below s.masters (refl, under) tt,
          );
          alters = alters_set s.heap (Followed (Names o)) p there.object (parted there.object) there.found (refl, refl, refl) (λ h. h) (λ h. inl h);
          says = followed o (object, found, held);
        })))

    object_freed : (o : Id) (object : Object) (p : Id) → object_at s.heap o ≡ Some object → is_there object.stage ≡ true → slice_get object.cell.values c ≡ Some (Names p) → (w : Working known s.heap a.places s.masters (Releasing known s.heap (Names o) [] access c k)) → Fine known s.heap s.masters (freed_next named types access (Names o) c (Names p) (named.standing s.heap (Names p)) (running k (record a { operands = below }) rest s))
    object_freed o object p found listed at w = by w.rest.access refl (named_type o object p found listed at w)
      where
        by : (kind : Option ℕ) → w.rest.access ≡ kind → IsOf (access_at s.heap) kind p → Fine known s.heap s.masters (freed_next named types access (Names o) c (Names p) (named.standing s.heap (Names p)) (running k (record a { operands = below }) rest s))
        by None is of = absurd of
        by (Some t) is of = ends_next o object p t found listed at w is of

    component_freed : (o : Id) (object : Object) (held : Option Value) → slice_get object.cell.values c ≡ held → object_at s.heap o ≡ Some object → is_there object.stage ≡ true → Working known s.heap a.places s.masters (Releasing known s.heap (Names o) [] access c k) → Fine known s.heap s.masters (free_component_next named types access (Names o) c held (running k (record a { operands = below }) rest s))
    component_freed o object None at found listed w = tt
    component_freed o object (Some Null) at found listed w = null_freed o (object, found, listed) w
    component_freed o object (Some (Names p)) at found listed w = object_freed o object p found listed at w
    component_freed o object (Some (Scalar n)) at found listed w = tt
    component_freed o object (Some (Part object_id base)) at found listed w = tt

    -- The object of the component is there, or null raises Constraint_Error.
    pub free_in_fine : (v : Value) → (w : Working known s.heap a.places s.masters (λ rooms holds. MayFollow s.heap v × Releasing known s.heap v [] access c k rooms holds)) → Fine known s.heap s.masters (free_in_next named types access v c (look s.heap v) (running k (record a { operands = below }) rest s))
    free_in_fine Null w = jumps_less known k (record a { operands = below }) rest s (Raising ConstraintError) (at_work w (raises_less known k w.rooms w.holds w.rest.1.access (w.rest.1.raises refl)))
    free_in_fine (Names o) w =
        let there : IsThere s.heap o = w.rest.0 in
        rw (there.1, (w.stored.sane o there.0 there.1).there_exists there.2)
        (component_freed o there.0 (slice_get there.0.cell.values c) refl there.1 there.2 (at_work w w.rest.1))
    free_in_fine (Scalar n) w = tt
    free_in_fine (Part object_id base) w = tt
