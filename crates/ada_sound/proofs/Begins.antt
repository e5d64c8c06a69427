-- Where paths begin (4.1, 6.2): with what a variable holds, or with the object in which a record lies to which that refers. What they lead to from there.

use Rattle.std.proofs.Common.{◌≡◌, ◌≢◌, ℕ, zero, suc, ◌+◌, Bool, true, false, ◌||◌, List, [], ◌∷◌, drop, refl, sym, ap, ◌∙◌, ◌⊎◌, inl, inr, arith}
use Rattle.std.specs.Prelude.{Option, Some, None}
use Rattle.std.proofs.lemmas.Bool.{and_parts, eqb-true}
use Rattle.ada_text.specs.declared.spot.Spot.{Spot}
use Rattle.ada_program.specs.declared.program.ComponentKind.{ComponentKind}
use Rattle.ada_program.specs.declared.program.ComponentKind.TheVariants as component_kinds
use Rattle.ada_program.specs.declared.program.VariableKind.{VariableKind}
use Rattle.ada_program.specs.declared.program.VariableKind.TheVariants as kinds
use Rattle.ada_program.specs.Form.{PathForm, RecordPathForm}
use Rattle.ada_program.specs.ProgramForm.{TypeForm, VariableForm}
use Rattle.ada_program.specs.WellFormed.{access_of, held_kind, kind_among, kind_behind, selected_kind, selectors_kind, root_kind, path_kind, value_access, path_access, reached_components, record_components, object_components, is_alike, begins_with, has_record_at, is_record_path, variable_kind}
use Rattle.ada_flow.specs.declared.rule.Hold.TheVariants as hold
use Rattle.ada_flow.specs.Flow.{Holds, hold_at, lost_by, is_freed, passes_freed, component_passes}
use Rattle.ada_meaning.specs.declared.state.Id.{Id}
use Rattle.ada_meaning.specs.declared.state.Place.{Place}
use Rattle.ada_meaning.specs.declared.state.Value.{Value}
use Rattle.ada_meaning.specs.declared.state.Value.TheVariants.{Null, Names, Scalar, Part}
use Rattle.ada_meaning.specs.Heap.{finds}
use Rattle.ada_meaning.specs.Named.{Object, object_at, whole, inside, named}
use Rattle.ada_meaning.specs.Step.{before_last, last_of, place_in}
use Rattle.ada_owners.specs.Places.{variable, access_at}
use Rattle.ada_owners.specs.Reliance.{IsOf}
use Rattle.ada_owners.specs.Reliance as reliance
use Rattle.ada_owners.specs.Walks as walks
use Rattle.ada_owners.specs.Walks.{walk}
use Rattle.ada_owners.proofs.Walks.{walk_right, every_may}
use Rattle.ada_owners.proofs.Objects.{present_at}
use Rattle.ada_owners.proofs.Kernel as kernel
use Rattle.ada_sound.proofs.Fits.{Outsiders, Reference, IsReferred, AreReferred, IsWithin, IsPlace, Fit, kinds_of, none_spared, place_at, names_object, is_object, MayFollow, there_by}
use Rattle.ada_sound.proofs.Roots.{kept_hold, none_behind, value_root}
use Rattle.ada_sound.proofs.Invariant.{begun, along, ReferredBy, OpenedBy}

-- The kind of a component of a record, where the record lies in an object.
alike_kind : (c k : ComponentKind) → is_alike c k ≡ true → held_kind c ≡ held_kind k
alike_kind (component_kinds.Integer initial) (component_kinds.Integer other) e = refl
alike_kind (component_kinds.Integer initial) (component_kinds.Boolean other) e = absurd (cc e)
alike_kind (component_kinds.Integer initial) (component_kinds.Access access) e = absurd (cc e)
alike_kind (component_kinds.Boolean initial) (component_kinds.Integer other) e = absurd (cc e)
alike_kind (component_kinds.Boolean initial) (component_kinds.Boolean other) e = refl
alike_kind (component_kinds.Boolean initial) (component_kinds.Access access) e = absurd (cc e)
alike_kind (component_kinds.Access access) (component_kinds.Integer other) e = absurd (cc e)
alike_kind (component_kinds.Access access) (component_kinds.Boolean other) e = absurd (cc e)
alike_kind (component_kinds.Access access) (component_kinds.Access other) e = ap (λ n. kinds.Access (record { 0 = n })) (eqb-true access.0 other.0 e)

begins_kind : (cs ks : List ComponentKind) (c : ℕ) (kind : VariableKind) → begins_with cs ks ≡ true → kind_among (Some ks) c ≡ Some kind → kind_among (Some cs) c ≡ Some kind
begins_kind cs [] c kind begins is = absurd (cc is)
begins_kind [] (k ∷ ks) c kind begins is = absurd (cc begins)
begins_kind (d ∷ cs) (k ∷ ks) zero kind begins is = ap Some (alike_kind d k (and_parts (is_alike d k) (begins_with cs ks) begins).0) ∙ is
begins_kind (d ∷ cs) (k ∷ ks) (suc c) kind begins is = begins_kind cs ks c kind (and_parts (is_alike d k) (begins_with cs ks) begins).1 is

drop_kind : (cs : List ComponentKind) (first c : ℕ) → kind_among (Some (drop first cs)) c ≡ kind_among (Some cs) (first + c)
drop_kind cs zero c = ap (λ n. kind_among (Some cs) n) (omega arith)
drop_kind [] (suc first) c = refl
drop_kind (k ∷ cs) (suc first) c =
    let next : suc first + c ≡ suc (first + c) = omega arith in
    rw next (drop_kind cs first c)

-- Each component of a record that lies in an object is one of the object, from where the record begins.
pub record_kind : (reached ks : Option (List ComponentKind)) (first c : ℕ) (kind : VariableKind) → has_record_at reached first ks ≡ true → kind_among ks c ≡ Some kind → kind_among reached (first + c) ≡ Some kind
record_kind None ks first c kind has is = absurd (cc has)
record_kind (Some cs) None first c kind has is = absurd (cc has)
record_kind (Some cs) (Some ks) first c kind has is = sym (drop_kind cs first c) ∙ begins_kind (drop first cs) ks c kind has is

-- What is behind selectors is of the access type that typing says.
behind_access : (types : List TypeForm) (variables : List VariableForm) (outer : Outsiders) (kind : Option ℕ) (c : ℕ) → reliance.component_kind (kinds_of types variables outer) kind c ≡ access_of (kind_behind types kind c)
behind_access types variables outer None c = refl
behind_access types variables outer (Some t) c = refl

pub along_these : (types : List TypeForm) (variables : List VariableForm) (outer : Outsiders) (from : Option VariableKind) (cs : List ℕ) → walks.kind_behind (kinds_of types variables outer) (access_of from) cs ≡ access_of (selectors_kind types from cs)
along_these types variables outer from [] = refl
along_these types variables outer from (c ∷ cs) = rw (behind_access types variables outer (access_of from) c) (along_these types variables outer (selected_kind types from c) cs)

-- Where a path begins whose variable holds this: of what kind that is, and what is selected behind it. It is what the variable holds; or the variable
-- refers to a record, which lies in an object that a call refers to.
abbrev pub IsAlone : (kind from : Option VariableKind) → Value → Type 0
IsAlone kind from v = (whole v ≡ v) × ((c : ℕ) → inside v c ≡ c) × (from ≡ kind)

pub record IsPart (types : List TypeForm) (referenced : List Reference) (kind from : Option VariableKind) (v : Value) : Type 0 where
  pub o : Id
  pub place : Place
  pub t : ℕ
  pub is : v ≡ Part o place
  pub object : names_object kind ≡ true
  pub refers : IsReferred referenced o t
  pub from_is : access_of from ≡ Some t
  pub within : IsWithin types kind t place.component

pub record Root (types : List TypeForm) (referenced : List Reference) (heap : List Object) (kind : Option VariableKind) (v : Value) : Type 0 where
  pub from : Option VariableKind
  pub names : (o : Id) → whole v ≡ Names o → IsOf (access_at heap) (access_of from) o
  pub leads : (c : ℕ) (cs : List ℕ) (to : VariableKind) → selectors_kind types kind (c ∷ cs) ≡ Some to → selectors_kind types from (inside v c ∷ cs) ≡ Some to
  pub is : IsAlone kind from v ⊎ IsPart types referenced kind from v

-- What is selected behind a record is selected in its object.
part_leads : (types : List TypeForm) (kind : Option VariableKind) (t first c : ℕ) (cs : List ℕ) (to : VariableKind) → IsWithin types kind t first → selectors_kind types kind (c ∷ cs) ≡ Some to → selectors_kind types (Some (kinds.Access (record { 0 = t }))) ((first + c) ∷ cs) ≡ Some to
part_leads types kind t first c cs to within leads = go (selected_kind types kind c) refl
  where
    go : (k : Option VariableKind) → selected_kind types kind c ≡ k → selectors_kind types (Some (kinds.Access (record { 0 = t }))) ((first + c) ∷ cs) ≡ Some to
    go None is = let none : None ≡ Some to = sym (none_behind types cs) ∙ (rw is at leads) in absurd (cc none)
    go (Some k) is = rw (within c k is) (rw is at leads)

root_by : (types : List TypeForm) (outer : Outsiders) (heap : List Object) (kind : Option VariableKind) (v : Value) → AreReferred outer heap → IsPlace types outer.referenced kind v → ((o : Id) → v ≡ Names o → IsOf (access_at heap) (access_of kind) o) → Root types outer.referenced heap kind v
root_by types outer heap kind Null are place names = record { from = kind; names = names; leads = λ c cs to e. e; is = inl (refl, (λ c. refl), refl) }
root_by types outer heap kind (Names o) are place names = record { from = kind; names = names; leads = λ c cs to e. e; is = inl (refl, (λ c. refl), refl) }
root_by types outer heap kind (Scalar n) are place names = record { from = kind; names = names; leads = λ c cs to e. e; is = inl (refl, (λ c. refl), refl) }
root_by types outer heap kind (Part o place) are (object, t, refers, within) names = record {
  from = Some (kinds.Access (record { 0 = t }));
  names = λ p e. let same : o ≡ p = cc e in rw (← same) (are o t refers);
  leads = λ c cs to e. part_leads types kind t place.component c cs to within e;
  is = inr (record { o = o; place = place; t = t; is = refl; object = object; refers = refers; from_is = refl; within = within });
}

present_by : (heap : List Object) (kind : Option ℕ) (o : Id) (object : Object) → IsOf (access_at heap) kind o → object_at heap o ≡ Some object → kind ≡ Some object.cell.access
present_by heap None o object of found = absurd of
present_by heap (Some t) o object of found =
    let h = present_at heap o t of in
    let one : h.object ≡ object = cc (h.found, found) in
    ap Some (sym h.access ∙ ap (λ (y : Object). y.cell.access) one)

module _ {types : List TypeForm} {variables : List VariableForm} {outer : Outsiders} {spared : Id → Bool} {heap : List Object} {places : List Value} {holds : Holds} where
  pub root_in : (x : ℕ) → hold_at holds x ≢ hold.Lost → Fit types variables outer spared heap places holds → Root types outer.referenced heap (variable_kind variables x) (place_at places x)
  root_in x ne f =
      root_by types outer heap (variable_kind variables x) (place_at places x) f.referred (f.objects x ne)
      (λ o is. kernel.right_at f.owners.fit (variable x) ne o is)

  pub root_at : (x : ℕ) (spot : Spot) → lost_by (hold_at holds x) spot ≡ None → Fit types variables outer spared heap places holds → Root types outer.referenced heap (variable_kind variables x) (place_at places x)
  root_at x spot kept f = root_in x (kept_hold (hold_at holds x) spot kept) f

  -- It may be followed.
  pub root_follows : (x : ℕ) (spot : Spot) → lost_by (hold_at holds x) spot ≡ None → Fit types variables outer spared heap places holds → MayFollow heap (whole (place_at places x))
  root_follows x spot kept f = go (root_at x spot kept f) (whole (place_at places x)) refl
    where
      go : Root types outer.referenced heap (variable_kind variables x) (place_at places x) → (w : Value) → whole (place_at places x) ≡ w → MayFollow heap w
      go r Null is = tt
      go r (Names o) is = there_by heap (access_of r.from) o (r.names o is)
      go r (Scalar n) is = tt
      go r (Part o place) is = tt

-- And it is of the kind that is said.
pub root_access : {types : List TypeForm} {referenced : List Reference} {heap : List Object} {kind : Option VariableKind} {v : Value} (r : Root types referenced heap kind v) (o : Id) (object : Object) → whole v ≡ Names o → object_at heap o ≡ Some object → access_of r.from ≡ Some object.cell.access
root_access {heap = heap} r o object is found = present_by heap (access_of r.from) o object (r.names o is) found

-- A path to a value of an access type: its root is a variable, whose value is of this access type where the path goes no further.
value_is : (found : Option VariableKind) (t : ℕ) → value_access found ≡ Some t → access_of found ≡ Some t
value_is None t e = absurd (cc e)
value_is (Some kinds.Integer) t e = absurd (cc e)
value_is (Some kinds.Boolean) t e = absurd (cc e)
value_is (Some (kinds.Access access)) t e = e
value_is (Some (kinds.Record object)) t e = absurd (cc e)

root_or_none : (of_record : Bool) (k : Option VariableKind) → (root_kind of_record k ≡ None) ⊎ (root_kind of_record k ≡ k)
root_or_none b None = inl refl
root_or_none true (Some kinds.Integer) = inl refl
root_or_none false (Some kinds.Integer) = inr refl
root_or_none true (Some kinds.Boolean) = inl refl
root_or_none false (Some kinds.Boolean) = inr refl
root_or_none true (Some (kinds.Access access)) = inl refl
root_or_none false (Some (kinds.Access access)) = inr refl
root_or_none true (Some (kinds.Record object)) = inr refl
root_or_none false (Some (kinds.Record object)) = inl refl

-- A path that leads somewhere does so from what its variable holds.
pub from_root : (types : List TypeForm) (of_record : Bool) (k : Option VariableKind) (cs : List ℕ) (to : VariableKind) → selectors_kind types (root_kind of_record k) cs ≡ Some to → selectors_kind types k cs ≡ Some to
from_root types b k cs to e = go (root_or_none b k)
  where
    go : (root_kind b k ≡ None) ⊎ (root_kind b k ≡ k) → selectors_kind types k cs ≡ Some to
    go (inl none) = let h = rw (none, none_behind types cs) at e in absurd (cc h)
    go (inr same) = rw same at e

pub kind_named : (found : Option VariableKind) (t : ℕ) → access_of found ≡ Some t → (to : VariableKind) × (found ≡ Some to)
kind_named None t e = absurd (cc e)
kind_named (Some to) t e = (to, refl)

pub along_root : (types : List TypeForm) (of_record : Bool) (k : Option VariableKind) (cs : List ℕ) (t : ℕ) → value_access (selectors_kind types (root_kind of_record k) cs) ≡ Some t → access_of (selectors_kind types k cs) ≡ Some t
along_root types b k cs t e =
    let of = value_is (selectors_kind types (root_kind b k) cs) t e in
    let h = kind_named (selectors_kind types (root_kind b k) cs) t of in
    ap access_of (from_root types b k cs h.0 h.1 ∙ sym h.1) ∙ of

module _ {types : List TypeForm} {variables : List VariableForm} {outer : Outsiders} {heap : List Object} {places : List Value} {holds : Holds} (f : Fit types variables outer none_spared heap places holds) where
  -- What a walk finds from where a path begins is there, and of the kind that is said.
  pub walk_names : (x : ℕ) (r : Root types outer.referenced heap (variable_kind variables x) (place_at places x)) (cs : List ℕ) (v : Value) (o : Id) → walk heap (whole (place_at places x)) cs ≡ finds v → v ≡ Names o → IsOf (access_at heap) (access_of (selectors_kind types r.from cs)) o
  walk_names x r cs v o found is =
      let right = walk_right f.owners (λ u. Unit {0}) (λ p c u e may lost. cc lost) (access_of r.from) (whole (place_at places x)) cs (every_may (kinds_of types variables outer) _ cs) r.names in
      let here = rw (along_these types variables outer r.from cs, found) at right in
      here o is

  -- So it is of what a path finds, whose variable is not lost.
  pub path_names : (path : PathForm) (t : ℕ) (v : Value) (o : Id) → path_access types variables path ≡ Some t → lost_by (hold_at holds path.root) path.spot ≡ None → walk heap (begun places path) (along places path) ≡ finds v → v ≡ Names o → IsOf (access_at heap) (Some t) o
  path_names path t v o of kept found is = go path.selectors refl
    where
      r : Root types outer.referenced heap (variable_kind variables path.root) (place_at places path.root)
      r = root_at path.root path.spot kept f

      alone : is_object variables path.root ≡ false → access_of (variable_kind variables path.root) ≡ Some t → walk heap (begun places path) [] ≡ finds v → IsAlone (variable_kind variables path.root) r.from (place_at places path.root) ⊎ IsPart types outer.referenced (variable_kind variables path.root) r.from (place_at places path.root) → IsOf (access_at heap) (Some t) o
      alone none kind here (inl a) =
          let from : access_of r.from ≡ Some t = ap access_of a.2 ∙ kind in
          rw from at (walk_names path.root r [] v o here is)
      alone none kind here (inr a) = let object = a.object in absurd (cc (none, object))

      go : (cs : List ℕ) → path.selectors ≡ cs → IsOf (access_at heap) (Some t) o
      go [] none =
          let kind : access_of (variable_kind variables path.root) ≡ Some t = rw none at (along_root types path.of_record (variable_kind variables path.root) path.selectors t of) in
          alone (value_root types variables path t none of) kind (rw none at found) r.is
      go (c ∷ cs) some =
          let kind : access_of (selectors_kind types (variable_kind variables path.root) (c ∷ cs)) ≡ Some t = rw some at (along_root types path.of_record (variable_kind variables path.root) path.selectors t of) in
          let to = kind_named (selectors_kind types (variable_kind variables path.root) (c ∷ cs)) t kind in
          let here : access_of (selectors_kind types r.from (inside (place_at places path.root) c ∷ cs)) ≡ Some t = ap access_of (r.leads c cs to.0 to.1 ∙ sym to.1) ∙ kind in
          rw here at (walk_names path.root r (inside (place_at places path.root) c ∷ cs) v o (rw some at found) is)

-- A value that is followed in front of the last selector is passed.
pub passed_last : (types : List TypeForm) (may : ℕ → Bool) (kind : Option VariableKind) (c : ℕ) (cs : List ℕ) → passes_freed types may kind (c ∷ cs) ≡ false → is_freed may (access_of (selectors_kind types kind (before_last c cs))) ≡ false
passed_last types may kind c [] none = first (is_freed may (access_of kind)) none
  where
    first : (a : Bool) → a || false ≡ false → a ≡ false
    first true e = absurd (cc e)
    first false e = refl
passed_last types may kind c (d ∷ cs) none = passed_last types may (selected_kind types kind c) d cs (later (is_freed may (access_of kind)) none)
  where
    later : (a : Bool) → a || passes_freed types may (selected_kind types kind c) (d ∷ cs) ≡ false → passes_freed types may (selected_kind types kind c) (d ∷ cs) ≡ false
    later true e = absurd (cc e)
    later false e = e

-- The last selector comes behind the others.
last_kind : (types : List TypeForm) (kind : Option VariableKind) (c : ℕ) (cs : List ℕ) → selectors_kind types kind (c ∷ cs) ≡ selected_kind types (selectors_kind types kind (before_last c cs)) (last_of c cs)
last_kind types kind c [] = refl
last_kind types kind c (d ∷ cs) = last_kind types (selected_kind types kind c) d cs

-- What is selected first leads somewhere.
pub first_leads : (types : List TypeForm) (kind : Option VariableKind) (c : ℕ) (cs : List ℕ) (to : VariableKind) → selectors_kind types kind (c ∷ cs) ≡ Some to → (k : VariableKind) × (selected_kind types kind c ≡ Some k)
first_leads types kind c cs to leads = go (selected_kind types kind c) refl
  where
    go : (k : Option VariableKind) → selected_kind types kind c ≡ k → (k : VariableKind) × (selected_kind types kind c ≡ Some k)
    go None is = let none : None ≡ Some to = sym (none_behind types cs) ∙ (rw is at leads) in absurd (cc none)
    go (Some k) is = (k, is)

-- An object that a path leads to is of an access type that a call may not free, if the path passes none; or a call refers to it already.
abbrev pub IsSpared : (static : (may : ℕ → Bool) → Type 0) → List Reference → Id → (t : ℕ) → Type 0
IsSpared static referenced o t = ((may : ℕ → Bool) → static may → may t ≡ false) ⊎ IsReferred referenced o t

pub freed_is : (may : ℕ → Bool) (found : Option ℕ) (t : ℕ) → found ≡ Some t → is_freed may found ≡ false → may t ≡ false
freed_is may found t is none = rw is at none

behind_components : (types : List TypeForm) (access : Option ℕ) (c : ℕ) → kind_behind types access c ≡ kind_among (object_components types access) c
behind_components types None c = refl
behind_components types (Some t) c = refl

-- The object of a component that is given, and the component in it.
pub record Opened (types : List TypeForm) (variables : List VariableForm) (referenced : List Reference) (heap : List Object) (path : PathForm) (to : VariableKind) (r : Value) : Type 0 where
  pub o : Id
  pub c : ℕ
  pub t : ℕ
  pub is : r ≡ Part o (record { component = c; part = 0 })
  pub there : access_at heap o ≡ Some t
  pub kind : kind_among (reached_components types t) c ≡ Some to
  pub spared : IsSpared (λ may. component_passes types variables may path ≡ false) referenced o t

-- The object in which a record lies that is given, and where the record begins there.
pub record Referred (types : List TypeForm) (variables : List VariableForm) (referenced : List Reference) (heap : List Object) (p : RecordPathForm) (v : Value) : Type 0 where
  pub o : Id
  pub place : Place
  pub t : ℕ
  pub is : v ≡ Part o place
  pub there : access_at heap o ≡ Some t
  pub within : (c : ℕ) (k : VariableKind) → kind_among (record_components types p.record_type) c ≡ Some k → kind_among (reached_components types t) (place.component + c) ≡ Some k
  pub spared : (access_of (path_kind types variables p.object) ≡ Some t) ⊎ IsReferred referenced o t

module _ {types : List TypeForm} {variables : List VariableForm} {outer : Outsiders} {heap : List Object} {places : List Value} {holds : Holds} (f : Fit types variables outer none_spared heap places holds) where
  -- The object of a name that is of a kind.
  of_kind : (kind : Option ℕ) (o : Id) → IsOf (access_at heap) kind o → (t : ℕ) × (kind ≡ Some t) × (access_at heap o ≡ Some t)
  of_kind None o of = absurd of
  of_kind (Some t) o of = (t, refl, of)

  pub component_opened : (path : PathForm) (to : VariableKind) (r : Value) → path_kind types variables path ≡ Some to → lost_by (hold_at holds path.root) path.spot ≡ None → OpenedBy heap places path r → Opened types variables outer.referenced heap path to r
  component_opened path to r leads kept (o, c, is, found, last) = go path.selectors refl
    where
      kind : Option VariableKind
      kind = variable_kind variables path.root

      v : Value
      v = place_at places path.root

      b : Root types outer.referenced heap (variable_kind variables path.root) (place_at places path.root)
      b = root_at path.root path.spot kept f

      from_kind : selectors_kind types (variable_kind variables path.root) path.selectors ≡ Some to
      from_kind = from_root types path.of_record (variable_kind variables path.root) path.selectors to leads

      there : (d : ℕ) (ds : List ℕ) → path.selectors ≡ d ∷ ds → walk heap (whole (place_at places path.root)) (before_last (inside (place_at places path.root) d) ds) ≡ finds (Names o)
      there d ds some = rw some at found

      last_is : (d : ℕ) (ds : List ℕ) → path.selectors ≡ d ∷ ds → last_of (inside (place_at places path.root) d) ds ≡ c
      last_is d ds some = let same = rw some at last in cc same

      mid_kind : (d : ℕ) (ds : List ℕ) → path.selectors ≡ d ∷ ds → selected_kind types (selectors_kind types b.from (before_last (inside (place_at places path.root) d) ds)) (last_of (inside (place_at places path.root) d) ds) ≡ Some to
      mid_kind d ds some = sym (last_kind types b.from (inside (place_at places path.root) d) ds) ∙ b.leads d ds to (rw some at from_kind)

      spared_by : (d : ℕ) (ds : List ℕ) (t : ℕ) → path.selectors ≡ d ∷ ds → access_of (selectors_kind types b.from (before_last (inside (place_at places path.root) d) ds)) ≡ Some t → IsSpared (λ may. component_passes types variables may path ≡ false) outer.referenced o t
      spared_by d [] t some at = by b.is
        where
          by : IsAlone (variable_kind variables path.root) b.from (place_at places path.root) ⊎ IsPart types outer.referenced (variable_kind variables path.root) b.from (place_at places path.root) → IsSpared (λ may. component_passes types variables may path ≡ false) outer.referenced o t
          by (inl a) = inl (λ may none. freed_is may (access_of (variable_kind variables path.root)) t (ap access_of (sym a.2) ∙ at) (passed_last types may (variable_kind variables path.root) d [] (rw some at none)))
          by (inr a) =
              let names : finds (whole (place_at places path.root)) ≡ finds (Names o) = there d [] some in
              let here : whole (Part a.o a.place) ≡ whole (place_at places path.root) = ap whole (sym a.is) in
              let same : a.o ≡ o = cc (here, names) in
              let one : a.t ≡ t = let g = a.from_is in cc (g, at) in
              inr (rw (same, one) at a.refers)
      spared_by d (e ∷ es) t some at =
          let h = first_leads types (variable_kind variables path.root) d (e ∷ es) to (rw some at from_kind) in
          let same : selected_kind types b.from (inside (place_at places path.root) d) ≡ selected_kind types (variable_kind variables path.root) d = b.leads d [] h.0 h.1 ∙ sym h.1 in
          inl (λ may none. freed_is may (access_of (selectors_kind types (selected_kind types (variable_kind variables path.root) d) (before_last e es))) t
          (ap (λ (k : Option VariableKind). access_of (selectors_kind types k (before_last e es))) (sym same) ∙ at)
          (passed_last types may (variable_kind variables path.root) d (e ∷ es) (rw some at none)))

      go : (cs : List ℕ) → path.selectors ≡ cs → Opened types variables outer.referenced heap path to r
      go [] none = let e = rw none at last in absurd (cc e)
      go (d ∷ ds) some =
          let of = walk_names f path.root b (before_last (inside (place_at places path.root) d) ds) (Names o) o (there d ds some) refl in
          let h = of_kind (access_of (selectors_kind types b.from (before_last (inside (place_at places path.root) d) ds))) o of in
          let mid = selectors_kind types b.from (before_last (inside (place_at places path.root) d) ds) in
          record {
            o = o;
            c = c;
            t = h.0;
            is = is;
            there = h.2;
            kind = rw (← last_is d ds some) (rw (h.1) at (mid_kind d ds some));
            spared = spared_by d ds h.0 some h.1;
          }

  referred_to : (p : RecordPathForm) (v : Value) (to : VariableKind) → path_kind types variables p.object ≡ Some to → has_record_at (object_components types (access_of (Some to))) p.first (record_components types p.record_type) ≡ true → lost_by (hold_at holds p.object.root) p.object.spot ≡ None → ReferredBy heap places p v → Referred types variables outer.referenced heap p v
  referred_to p v to leads lies_in kept (o, is, found) = go p.object.selectors refl
    where
      b : Root types outer.referenced heap (variable_kind variables p.object.root) (place_at places p.object.root)
      b = root_at p.object.root p.object.spot kept f

      from_kind : selectors_kind types (variable_kind variables p.object.root) p.object.selectors ≡ Some to
      from_kind = from_root types p.object.of_record (variable_kind variables p.object.root) p.object.selectors to leads

      -- The record lies in an object of the access type of what the path names.
      in_this : (place : Place) (t : ℕ) → access_at heap o ≡ Some t → access_of (Some to) ≡ Some t → v ≡ Part o place → place.component ≡ p.first → Referred types variables outer.referenced heap p v
      in_this place t there at is' same = record {
        o = o;
        place = place;
        t = t;
        is = is';
        there = there;
        within = λ c k e. rw same (record_kind (reached_components types t) (record_components types p.record_type) p.first c k (rw at at lies_in) e);
        spared = inl (ap access_of leads ∙ at);
      }

      in_part : p.object.selectors ≡ [] → IsPart types outer.referenced (variable_kind variables p.object.root) b.from (place_at places p.object.root) → Referred types variables outer.referenced heap p v
      in_part none a =
          let names : finds (whole (place_at places p.object.root)) ≡ finds (Names o) = rw none at found in
          let here : whole (Part a.o a.place) ≡ whole (place_at places p.object.root) = ap whole (sym a.is) in
          let same : a.o ≡ o = cc (here, names) in
          let kind : variable_kind variables p.object.root ≡ Some to = rw none at from_kind in
          record {
            o = o;
            place = record { component = a.place.component + p.first; part = a.place.part + p.part };
            t = a.t;
            is = is ∙ ap (λ (place : Place). Part o place) (rw (none, a.is) refl);
            there = rw same at (f.referred a.o a.t a.refers);
            within = λ c k e. (
                let deep : kind_among (object_components types (access_of (Some to))) (p.first + c) ≡ Some k = record_kind (object_components types (access_of (Some to))) (record_components types p.record_type) p.first c k lies_in e in
                let selects : selected_kind types (variable_kind variables p.object.root) (p.first + c) ≡ Some k = rw kind (behind_components types (access_of (Some to)) (p.first + c) ∙ deep) in
                let sum : a.place.component + (p.first + c) ≡ (a.place.component + p.first) + c = omega arith in
                rw sum at (a.within (p.first + c) k selects)
                );
            spared = inr (rw same at a.refers);
          }

      in_alone : p.object.selectors ≡ [] → IsAlone (variable_kind variables p.object.root) b.from (place_at places p.object.root) → Referred types variables outer.referenced heap p v
      in_alone none a =
          let names : finds (whole (place_at places p.object.root)) ≡ finds (Names o) = rw none at found in
          let one : whole (place_at places p.object.root) ≡ Names o = cc names in
          let h = of_kind (access_of b.from) o (b.names o one) in
          let kind : variable_kind variables p.object.root ≡ Some to = rw none at from_kind in
          in_this (place_in named (place_at places p.object.root) [] p) h.0 h.2 (ap access_of (sym kind ∙ sym a.2) ∙ h.1) (rw none at is) (a.1 p.first)

      go : (cs : List ℕ) → p.object.selectors ≡ cs → Referred types variables outer.referenced heap p v
      go [] none = elim b.is [ inl a ↦ in_alone none a | inr a ↦ in_part none a ]
      go (d ∷ ds) some =
          let goes : selectors_kind types b.from (inside (place_at places p.object.root) d ∷ ds) ≡ Some to = b.leads d ds to (rw some at from_kind) in
          let of = walk_names f p.object.root b (inside (place_at places p.object.root) d ∷ ds) (Names o) o (rw some at found) refl in
          let h = of_kind (access_of (selectors_kind types b.from (inside (place_at places p.object.root) d ∷ ds))) o of in
          in_this (record { component = p.first; part = p.part }) h.0 h.2 (ap access_of (sym goes) ∙ h.1) (rw some at is) refl

  leads_by : (p : RecordPathForm) (found : Option VariableKind) → has_record_at (object_components types (access_of found)) p.first (record_components types p.record_type) ≡ true → (to : VariableKind) × (found ≡ Some to)
  leads_by p None has = absurd (cc has)
  leads_by p (Some to) has = (to, refl)

  pub record_referred : (p : RecordPathForm) (v : Value) → is_record_path types variables p ≡ true → lost_by (hold_at holds p.object.root) p.object.spot ≡ None → ReferredBy heap places p v → Referred types variables outer.referenced heap p v
  record_referred p v lies kept by =
      let first_lies = (and_parts (has_record_at (object_components types (access_of (path_kind types variables p.object))) p.first (record_components types p.record_type)) _ lies).0 in
      let leads = leads_by p (path_kind types variables p.object) first_lies in
      let there : has_record_at (object_components types (access_of (Some leads.0))) p.first (record_components types p.record_type) ≡ true = rw leads.1 at first_lies in
      referred_to p v leads.0 leads.1 there kept by
