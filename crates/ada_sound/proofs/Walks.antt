-- Paths that are followed: one selector further, and to their end.

use Rattle.std.proofs.Common.{◌≡◌, ℕ, Bool, true, false, List, [], ◌∷◌, ◌++◌, refl, ap, ◌∙◌, inl, inr}
use Rattle.std.specs.Prelude.{Option, Some, None, ◌||◌}
use Rattle.std.specs.List.{slice_get}
use Rattle.ada_program.specs.declared.program.Exception.TheVariants.{ConstraintError}
use Rattle.ada_program.specs.declared.program.VariableKind.{VariableKind}
use Rattle.ada_program.specs.Form.{ItemForm, RightForm, nothing}
use Rattle.ada_program.specs.ProgramForm.{TypeForm}
use Rattle.ada_program.specs.WellFormed.{access_of, selected_kind, is_this}
use Rattle.ada_flow.specs.Flow.{Holds, passes_type, behind_end}
use Rattle.ada_meaning.specs.declared.state.Id.{Id}
use Rattle.ada_meaning.specs.declared.state.Value.{Value}
use Rattle.ada_meaning.specs.declared.state.Value.TheVariants.{Null, Names, Scalar, Part}
use Rattle.ada_meaning.specs.declared.state.Stage.{Stage}
use Rattle.ada_meaning.specs.declared.state.Stage.TheVariants.{Building, Existing, Gone}
use Rattle.ada_meaning.specs.declared.state.Mode.TheVariants.{Running, Raising}
use Rattle.ada_meaning.specs.Frame.{Targets, TargetsRecord, Copies, RefersIn, OpensIn, Receives, FreesIn, Follows, Fills}
use Rattle.ada_meaning.specs.Event.{Followed, Quiet}
use Rattle.ada_meaning.specs.Heap.{finds}
use Rattle.ada_meaning.specs.State.{Activation, Master}
use Rattle.ada_meaning.specs.Step.{raised, reading, component_next, path_next}
use Rattle.ada_meaning.specs.Named.{Object, State, object_at, existing, seen, look, named, whole}
use Rattle.ada_owners.specs.Places.{is_there, access_at}
use Rattle.ada_owners.specs.Reliance.{IsOf}
use Rattle.ada_owners.proofs.Objects.{present_at}
use Rattle.ada_owners.specs.Walks.{then_found, value_found, behind, walk}
use Rattle.ada_sound.proofs.Stored.{Stored}
use Rattle.ada_sound.proofs.Fits.{Fit, Outsiders, IsPlain, ArePlain, MayFollow, none_spared, component_access, component_is, component_follows, behind_good}
use Rattle.ada_sound.proofs.Orderings.{as_good_then}
use Rattle.ada_sound.proofs.Invariant.{outers, Known, Control, Rooms, To, RaisesAt, Working, Clearing, PassesNone, PassesNoneOwn, FillsTo, FindsFor, FillsOn, PassesTo, PassesOn, HalfFollows, ReadyIn, Stepped, Fine, ways}
use Rattle.ada_sound.proofs.Roots.{raises_null, raises_next}
use Rattle.ada_sound.proofs.Ready.{running, at_work, stays, jumps_less, passes_ready}

-- An object that is not gone is there.
pub stage_there : (stage : Stage) → (stage ≡ Gone → ⊥) → is_there stage ≡ true
stage_there Building there = refl
stage_there Existing there = refl
stage_there Gone there = absurd (there refl)

-- What is behind a value that names an object that exists is what its component holds.
pub behind_is : (heap : List Object) (o : Id) (x : Object) (c : ℕ) (w : Value) → object_at heap o ≡ Some x → x.stage ≡ Existing → slice_get x.cell.values c ≡ Some w → behind heap (Names o) c ≡ finds w
behind_is heap o x c w found exists at = rw (found, exists, at) refl

-- A walk goes one selector on.
pub walk_behind : (heap : List Object) (v : Value) (c : ℕ) (cs : List ℕ) (w : Value) → behind heap v c ≡ finds w → walk heap v (c ∷ cs) ≡ walk heap w cs
walk_behind heap v c cs w is = ap (λ f. then_found f (λ u. walk heap u cs)) is

-- What a walk that finds something has gone through: an object that is not gone, and one of its components.
pub record Passes (heap : List Object) (v : Value) (c : ℕ) (cs : List ℕ) (found : Value) : Type 0 where
  pub o : Id
  pub object : Object
  pub w : Value
  pub names : v ≡ Names o
  pub at : object_at heap o ≡ Some object
  pub there : object.stage ≡ Gone → ⊥
  pub looks : look heap (Names o) ≡ finds object.cell
  pub holds : slice_get object.cell.values c ≡ Some w
  pub goes_on : walk heap w cs ≡ finds found

module _ (heap : List Object) (c : ℕ) (cs : List ℕ) (u : Value) where
  passes_value : (o : Id) (x : Object) (t : Option Value) → object_at heap o ≡ Some x → (x.stage ≡ Gone → ⊥) → look heap (Names o) ≡ finds x.cell → slice_get x.cell.values c ≡ t → then_found (value_found t) (λ w. walk heap w cs) ≡ finds u → Passes heap (Names o) c cs u
  passes_value o x None at there looks is e = absurd (cc e)
  passes_value o x (Some w) at there looks is e = record { o = o; object = x; w = w; names = refl; at = at; there = there; looks = looks; holds = is; goes_on = e }

  passes_object : (o : Id) (x : Object) (stage : Stage) → object_at heap o ≡ Some x → x.stage ≡ stage → then_found (then_found (existing x stage) (λ cell. value_found (slice_get cell.values c))) (λ w. walk heap w cs) ≡ finds u → Passes heap (Names o) c cs u
  passes_object o x Building at is e = passes_value o x (slice_get x.cell.values c) at (λ g. cc (is, g)) (rw (at, is) refl) refl e
  passes_object o x Existing at is e = passes_value o x (slice_get x.cell.values c) at (λ g. cc (is, g)) (rw (at, is) refl) refl e
  passes_object o x Gone at is e = absurd (cc e)

  passes_name : (o : Id) (t : Option Object) → object_at heap o ≡ t → then_found (then_found (seen t) (λ cell. value_found (slice_get cell.values c))) (λ w. walk heap w cs) ≡ finds u → Passes heap (Names o) c cs u
  passes_name o None at e = absurd (cc e)
  passes_name o (Some x) at e = passes_object o x x.stage at refl e

  pub passes : (v : Value) → walk heap v (c ∷ cs) ≡ finds u → Passes heap v c cs u
  passes Null e = absurd (cc e)
  passes (Names o) e = passes_name o (object_at heap o) refl e
  passes (Scalar n) e = absurd (cc e)
  passes (Part object_id base) e = absurd (cc e)

-- What a walk finds refers to no record, if it begins at what refers to none.
pub whole_plain : (v : Value) → IsPlain (whole v)
whole_plain Null = tt
whole_plain (Names o) = tt
whole_plain (Scalar n) = tt
whole_plain (Part o first) = tt

pub plain_whole : (v : Value) → IsPlain v → whole v ≡ v
plain_whole Null plain = refl
plain_whole (Names o) plain = refl
plain_whole (Scalar n) plain = refl
plain_whole (Part o first) plain = absurd plain

pub walk_plain : (heap : List Object) → ArePlain heap → (cs : List ℕ) (w v : Value) → IsPlain w → walk heap w cs ≡ finds v → IsPlain v
walk_plain heap plain [] w v is found = let same : w ≡ v = cc found in rw same at is
walk_plain heap plain (c ∷ cs) w v is found =
    let p = passes heap c cs v w found in
    walk_plain heap plain cs p.w v (plain p.o p.object c p.w p.at p.holds) p.goes_on

-- What is left to do where a value is found: the selectors behind it are followed first.
abbrev pub behind_these : List ℕ → Control → Control
behind_these [] k = k
behind_these (c ∷ cs) k = Follows (c ∷ cs) ∷ k

module _ (known : Known) (k : Control) (a : Activation Value) (rest : List (Activation Value)) (s : State) (below : List Value) where
  -- An object's component is read: it is there, or is followed on.
  followed_fine : (o : Id) (object : Object) (cs : List ℕ) (w : Value) → object_at s.heap o ≡ Some object → is_there object.stage ≡ true → ReadyIn known Running (behind_these cs k) s.heap a.places (w ∷ below) s.masters → Stepped known s.heap (Followed (Names o)) (reading named cs w (running k (record a { operands = below }) rest s))
  followed_fine o object [] w found there r =
      stays known (Followed (Names o)) (running k (record a { operands = w ∷ below }) rest s) (tt, r)
      (record { id = o; object = object; is = refl; found = found; there = there })
  followed_fine o object (c ∷ cs) w found there r =
      stays known (Followed (Names o)) (running (Follows (c ∷ cs) ∷ k) (record a { operands = w ∷ below }) rest s) (tt, r)
      (record { id = o; object = object; is = refl; found = found; there = there })

  got_fine : (o : Id) (object : Object) (cs : List ℕ) (t : Option Value) → object_at s.heap o ≡ Some object → is_there object.stage ≡ true → ((w : Value) → t ≡ Some w → ReadyIn known Running (behind_these cs k) s.heap a.places (w ∷ below) s.masters) → Fine known s.heap s.masters (component_next named (Names o) cs t (running k (record a { operands = below }) rest s))
  got_fine o object cs None found there r = tt
  got_fine o object cs (Some w) found there r = followed_fine o object cs w found there (r w refl)

  -- A value that may be followed is followed by one selector: null raises Constraint_Error.
  pub follow_fine : {under : List Id} (c : ℕ) (cs : List ℕ) (v : Value) → Stored under s.heap s.masters → MayFollow s.heap v → (v ≡ Null → Stepped known s.heap Quiet (raised ConstraintError (running k (record a { operands = below }) rest s))) → ((o : Id) (object : Object) (w : Value) → v ≡ Names o → object_at s.heap o ≡ Some object → is_there object.stage ≡ true → slice_get object.cell.values c ≡ Some w → ReadyIn known Running (behind_these cs k) s.heap a.places (w ∷ below) s.masters) → Fine known s.heap s.masters (path_next named (c ∷ cs) v (running k (record a { operands = below }) rest s))
  follow_fine c cs Null stored follows fails r = fails refl
  follow_fine c cs (Names o) stored (object, found, listed) fails r =
      let exists = (stored.sane o object found).there_exists listed in
      rw (found, exists)
      (got_fine o object cs (slice_get object.cell.values c) found listed (λ w is. r o object w refl found listed is))
  follow_fine c cs (Scalar n) stored follows fails r = tt
  follow_fine c cs (Part object_id base) stored follows fails r = tt

  -- One selector of a walk that finds something.
  pub passes_fine : (c : ℕ) (cs : List ℕ) (v u : Value) → walk s.heap v (c ∷ cs) ≡ finds u → ((w : Value) → walk s.heap w cs ≡ finds u → ReadyIn known Running (behind_these cs k) s.heap a.places (w ∷ below) s.masters) → Fine known s.heap s.masters (path_next named (c ∷ cs) v (running k (record a { operands = below }) rest s))
  passes_fine c cs v u is r =
      let p = passes s.heap c cs u v is in
      rw (p.names, p.looks, p.holds)
      (followed_fine p.o p.object cs p.w p.at (stage_there p.object.stage p.there) (r p.w p.goes_on))

-- What typing of the heap says of what is found behind a value.
pub selected_access : (types : List TypeForm) (from : Option VariableKind) (object : Object) (c : ℕ) → access_of from ≡ Some object.cell.access → access_of (selected_kind types from c) ≡ component_access types object c
selected_access types from object c e = rw e refl

of_access : (heap : List Object) (kind : Option ℕ) (p : Id) (x : Object) → IsOf (access_at heap) kind p → object_at heap p ≡ Some x → kind ≡ Some x.cell.access
of_access heap None p x of found = absurd of
of_access heap (Some t) p x of found =
    let there = present_at heap p t of in
    let at = there.found in
    let same : there.object ≡ x = cc (at, found) in
    let access = there.access in
    cc (same, access)

passes_behind : (types : List TypeForm) (from : Option VariableKind) (c : ℕ) (cs : List ℕ) (access : Option ℕ) → PassesNone types from (c ∷ cs) access → PassesNone types (selected_kind types from c) cs access
passes_behind types from c cs None p = tt
passes_behind types from c cs (Some t) p = neither (is_this t (access_of from)) (passes_type types (selected_kind types from c) cs t) p
  where
    neither : (a b : Bool) → a || b ≡ false → b ≡ false
    neither true b e = absurd (cc e)
    neither false b e = e

-- So it is, whatever the first value was.
passes_next : (types : List TypeForm) (outer : Outsiders) (v : Value) (from : Option VariableKind) (c : ℕ) (cs : List ℕ) (access : Option ℕ) → PassesNoneOwn types outer v from (c ∷ cs) access → PassesNone types (selected_kind types from c) cs access
passes_next types outer v from c cs access (inl none) = passes_behind types from c cs access none
passes_next types outer v from c cs access (inr own) = own.1

-- Where an exception is raised before the component is freed, more is known than flow says.
pub raises_less : (known : Known) (k : Control) (rooms : Rooms) (holds : Holds) (access : Option ℕ) → To ((ways known k rooms).raised ConstraintError) (behind_end known.program.variables access holds) → To ((ways known k rooms).raised ConstraintError) holds
raises_less known k rooms holds access less =
    let behind = behind_end known.program.variables access holds in
    (less.0, as_good_then holds behind less.0 (behind_good known.program.variables access holds) less.1, less.2)

module _ (known : Known) (heap : List Object) (places : List Value) where
  -- What a path is followed for is known one selector on.
  finds_next : (k : Control) (v : Value) (below : List Value) (c : ℕ) (cs : List ℕ) (o : Id) (object : Object) (w : Value) (rooms : Rooms) (holds : Holds) → v ≡ Names o → object_at heap o ≡ Some object → is_there object.stage ≡ true → object.stage ≡ Existing → slice_get object.cell.values c ≡ Some w → Fit known.program.types known.program.variables (outers known) none_spared heap places holds → FindsFor known heap places v below (c ∷ cs) k rooms holds → FindsFor known heap places w below cs k rooms holds
  finds_next [] v below c cs o object w rooms holds is found listed exists at fit f = absurd f
  finds_next (Targets d right ∷ k) v below c cs o object w rooms holds is found listed exists at fit f =
      let on : behind heap v c ≡ finds w = rw is (behind_is heap o object c w found exists at) in
      let g = f.1 in
      (raises_next known v w c cs k rooms holds f.0, (g.0, g.1, g.2, g.3, (g.4.0 ∙ walk_behind heap v c cs w on, g.4.1), g.5))
  finds_next (TargetsRecord first t items ∷ k) v below c cs o object w rooms holds is found listed exists at fit f = (raises_next known v w c cs k rooms holds f.0, f.1)
  finds_next (Copies first t ∷ k) v below c cs o object w rooms holds is found listed exists at fit f = (raises_next known v w c cs k rooms holds f.0, f.1)
  finds_next (RefersIn place t ∷ k) v below c cs o object w rooms holds is found listed exists at fit f =
      let on : behind heap v c ≡ finds w = rw is (behind_is heap o object c w found exists at) in
      (raises_next known v w c cs k rooms holds f.0, (λ p there. f.1 p (walk_behind heap v c cs w on ∙ there)))
  finds_next (OpensIn d ∷ k) v below c cs o object w rooms holds is found listed exists at fit f =
      let on : behind heap v c ≡ finds w = rw is (behind_is heap o object c w found exists at) in
      (raises_next known v w c cs k rooms holds f.0, (λ p u there. f.1 p u (walk_behind heap v c cs w on ∙ there)))
  finds_next (Receives d ∷ k) v below c cs o object w rooms holds is found listed exists at fit f = (raises_next known v w c cs k rooms holds f.0, f.1, f.2)
  finds_next (FreesIn access d ∷ k) v below c cs o object w rooms holds is found listed exists at fit f =
      let types = known.program.types in
      let here = f.is_from o object is found in
      record {
        from = selected_kind types f.from c;
        access = f.access;
        is_from = λ p x names there. selected_access types f.from object c here ∙ of_access heap (component_access types object c) p x (component_is o object c w p refl found listed at names fit) there;
        passes = inl (passes_next types (outers known) v f.from c (cs ++ d ∷ []) f.access f.passes);
        of_type = f.of_type;
        frees_own = f.frees_own;
        own = f.own;
        spares = f.spares;
        covered = f.covered;
        raises = raises_next known v w c cs k rooms (behind_end known.program.variables f.access holds) f.raises;
        spared = f.spared;
        runs = f.runs;
      }
  finds_next (g ∷ k) v below c cs o object w rooms holds is found listed exists at fit f = absurd f

  -- Null on the way raises Constraint_Error.
  finds_raises : (k : Control) (v : Value) (below : List Value) (cs : List ℕ) (rooms : Rooms) (holds : Holds) → v ≡ Null → FindsFor known heap places v below cs k rooms holds → To ((ways known k rooms).raised ConstraintError) holds
  finds_raises [] v below cs rooms holds null f = absurd f
  finds_raises (Targets d right ∷ k) v below cs rooms holds null f = raises_null known v k rooms holds cs f.0 null
  finds_raises (TargetsRecord first t items ∷ k) v below cs rooms holds null f = raises_null known v k rooms holds cs f.0 null
  finds_raises (Copies first t ∷ k) v below cs rooms holds null f = raises_null known v k rooms holds cs f.0 null
  finds_raises (Receives d ∷ k) v below cs rooms holds null f = raises_null known v k rooms holds cs f.0 null
  finds_raises (RefersIn place t ∷ k) v below cs rooms holds null f = raises_null known v k rooms holds cs f.0 null
  finds_raises (OpensIn d ∷ k) v below cs rooms holds null f = raises_null known v k rooms holds cs f.0 null
  finds_raises (FreesIn access d ∷ k) v below cs rooms holds null f =
      raises_less known k rooms holds f.access (raises_null known v k rooms (behind_end known.program.variables f.access holds) cs f.raises null)
  finds_raises (g ∷ k) v below cs rooms holds null f = absurd f

  -- The object of a target, of a component that is freed, or of a record, is found: it is there, or null.
  finds_ready : (k : Control) (v : Value) (below : List Value) (ms : List Master) (w : Working known heap places ms (FindsFor known heap places v below [] k)) → MayFollow heap v → ReadyIn known Running k heap places (v ∷ below) ms
  finds_ready [] v below ms w follows = absurd (w.rest)
  finds_ready (Targets c right ∷ k) v below ms w follows = inl (at_work w (follows, w.rest.0, w.rest.1))
  finds_ready (TargetsRecord first t items ∷ k) v below ms w follows = at_work w (follows, w.rest.0, w.rest.1)
  finds_ready (Copies first t ∷ k) v below ms w follows = at_work w (follows, w.rest.0, (w.rest.1.0 v, w.rest.1.1))
  finds_ready (Receives c ∷ k) v below ms w follows = at_work w (follows, w.rest.0, w.rest.1, w.rest.2)
  finds_ready (RefersIn place t ∷ k) v below ms w follows = at_work w (follows, w.rest)
  finds_ready (OpensIn c ∷ k) v below ms w follows = at_work w (follows, w.rest)
  finds_ready (FreesIn access c ∷ k) v below ms w follows = at_work w (follows, w.rest)
  finds_ready (f ∷ k) v below ms w follows = absurd (w.rest)

-- Where a value is followed at all, Constraint_Error may be raised.
abbrev pub RaisesBehind : Known → Value → List ℕ → Control → Rooms → Holds → Type 0
RaisesBehind known v [] k rooms holds = Unit {0}
RaisesBehind known v (c ∷ cs) k rooms holds = RaisesAt known v cs k rooms holds

module _ (known : Known) (a : Activation Value) (rest : List (Activation Value)) (s : State) (below : List Value) where
  -- The path of a target, or of a component that is freed, is followed.
  pub finds_fine : (k : Control) (cs : List ℕ) (v : Value) (w : Working known s.heap a.places s.masters (FindsFor known s.heap a.places v below cs k)) → MayFollow s.heap v → Fine known s.heap s.masters (path_next named cs v (running k (record a { operands = below }) rest s))
  finds_fine k [] v w follows =
      stays known Quiet (running k (record a { operands = v ∷ below }) rest s) (tt, finds_ready known s.heap a.places k v below s.masters w follows) tt
  finds_fine k (c ∷ cs) v w follows =
      follow_fine known k a rest s below c cs v w.stored follows
      (λ is. jumps_less known k (record a { operands = below }) rest s (Raising ConstraintError) (at_work w (finds_raises known s.heap a.places k v below (c ∷ cs) w.rooms w.holds is w.rest)))
      (λ o object u is found listed at. next cs u (component_follows o object c u refl found listed at w.fit)
      (finds_next known s.heap a.places k v below c cs o object u w.rooms w.holds is found listed ((w.stored.sane o object found).there_exists listed) at w.fit w.rest))
    where
      next : (ds : List ℕ) (u : Value) → MayFollow s.heap u → FindsFor known s.heap a.places u below ds k w.rooms w.holds → ReadyIn known Running (behind_these ds k) s.heap a.places (u ∷ below) s.masters
      next [] u there f = finds_ready known s.heap a.places k u below s.masters (at_work w f) there
      next (d ∷ ds) u there f = inl (at_work w (there, inl f))

  -- The path of an item is followed.
  pub fills_fine : (items : List ItemForm) (k : Control) (c : ℕ) (cs : List ℕ) (v : Value) (w : Working known s.heap a.places s.masters (FillsOn known s.heap a.places v below (c ∷ cs) (Fills items ∷ k))) → MayFollow s.heap v → RaisesAt known v cs (Fills items ∷ k) w.rooms w.holds → Fine known s.heap s.masters (path_next named (c ∷ cs) v (running (Fills items ∷ k) (record a { operands = below }) rest s))
  fills_fine items k c cs v w follows raise =
      follow_fine known (Fills items ∷ k) a rest s below c cs v w.stored follows
      (λ is. jumps_less known (Fills items ∷ k) (record a { operands = below }) rest s (Raising ConstraintError) (at_work w (raises_null known v (Fills items ∷ k) w.rooms w.holds cs raise is)))
      (λ o object u is found listed at. next cs u raise (component_follows o object c u refl found listed at w.fit)
      (λ x on. w.rest x (walk_behind s.heap v c cs u (rw is (behind_is s.heap o object c u found ((w.stored.sane o object found).there_exists listed) at)) ∙ on)))
    where
      next : (ds : List ℕ) (u : Value) → RaisesAt known v ds (Fills items ∷ k) w.rooms w.holds → MayFollow s.heap u → ((x : Value) → walk s.heap u ds ≡ finds x → FillsTo known s.heap a.places items k (x ∷ below) w.rooms w.holds) → ReadyIn known Running (behind_these ds (Fills items ∷ k)) s.heap a.places (u ∷ below) s.masters
      next [] u raises there f = at_work w (f u refl)
      next (d ∷ ds) u raises there f = inl (at_work w (there, inr ((λ may. raises), inr (inr (inl f)))))

  -- The path of an actual parameter is followed.
  pub passed_fine : (k : Control) (cs : List ℕ) (v : Value) (w : Working known s.heap a.places s.masters (PassesOn known s.heap a.places v below cs k)) → MayFollow s.heap v → RaisesBehind known v cs k w.rooms w.holds → Fine known s.heap s.masters (path_next named cs v (running k (record a { operands = below }) rest s))
  passed_fine k [] v w follows raise =
      stays known Quiet (running k (record a { operands = v ∷ below }) rest s) (tt, passes_ready known k s.heap a.places (v ∷ below) s.masters (at_work w (w.rest v refl))) tt
  passed_fine k (c ∷ cs) v w follows raise =
      follow_fine known k a rest s below c cs v w.stored follows
      (λ is. jumps_less known k (record a { operands = below }) rest s (Raising ConstraintError) (at_work w (raises_null known v k w.rooms w.holds cs raise is)))
      (λ o object u is found listed at. next cs u raise (component_follows o object c u refl found listed at w.fit)
      (λ x on. w.rest x (walk_behind s.heap v c cs u (rw is (behind_is s.heap o object c u found ((w.stored.sane o object found).there_exists listed) at)) ∙ on)))
    where
      next : (ds : List ℕ) (u : Value) → RaisesAt known v ds k w.rooms w.holds → MayFollow s.heap u → ((x : Value) → walk s.heap u ds ≡ finds x → PassesTo known s.heap a.places (x ∷ below) k w.rooms w.holds) → ReadyIn known Running (behind_these ds k) s.heap a.places (u ∷ below) s.masters
      next [] u raises there f = passes_ready known k s.heap a.places (u ∷ below) s.masters (at_work w (f u refl))
      next (d ∷ ds) u raises there f = inl (at_work w (there, inr ((λ may. raises), inr (inr (inr f)))))

  -- What the path of the second half of a take pair leads to is the object of the component; on the way it is followed on.
  half_found : (o : Id) (c : ℕ) (right : RightForm) (k : Control) (v : Value) → right ≡ nothing → Clearing known (Names o) c k s.heap a.places s.masters → walk s.heap v [] ≡ finds (Names o) → ReadyIn known Running (Targets c right ∷ k) s.heap a.places (v ∷ below) s.masters
  half_found o c right k v is clears found = let same : v ≡ Names o = cc found in inr (is, rw same clears)

  half_next : (o : Id) (c : ℕ) (right : RightForm) (k : Control) (cs : List ℕ) (v : Value) → right ≡ nothing → Clearing known (Names o) c k s.heap a.places s.masters → walk s.heap v cs ≡ finds (Names o) → ReadyIn known Running (behind_these cs (Targets c right ∷ k)) s.heap a.places (v ∷ below) s.masters
  half_next o c right k [] v is clears found = half_found o c right k v is clears found
  half_next o c right k (d ∷ ds) v is clears found = inr (is, o, found, clears)

  -- That path is followed: its object is there.
  pub half_fine : (k : Control) (cs : List ℕ) (v : Value) → HalfFollows known v cs k s.heap a.places s.masters → Fine known s.heap s.masters (path_next named cs v (running k (record a { operands = below }) rest s))
  half_fine [] cs v h = absurd h
  half_fine (Targets c right ∷ k) [] v (is, o, found, clears) =
      stays known Quiet (running (Targets c right ∷ k) (record a { operands = v ∷ below }) rest s) (tt, half_found o c right k v is clears found) tt
  half_fine (Targets c right ∷ k) (d ∷ ds) v (is, o, found, clears) =
      passes_fine known (Targets c right ∷ k) a rest s below d ds v (Names o) found
      (λ w on. half_next o c right k ds w is clears on)
  half_fine (f ∷ k) cs v h = absurd h
