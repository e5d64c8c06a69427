-- What a path finds from a value that may be relied on.

use Rattle.std.proofs.Common.{◌≡◌, ◌≢◌, ℕ, true, List, [], ◌∷◌, ◌++◌, refl, ◌∙◌}
use Rattle.std.specs.Prelude.{Option, Some, None}
use Rattle.std.specs.List.{slice_get}
use Rattle.std.proofs.lemmas.Option.{get_or_from_slice_get}
use Rattle.ada_flow.specs.declared.rule.Hold.{Hold}
use Rattle.ada_flow.specs.declared.rule.Hold.TheVariants as held
use Rattle.ada_meaning.specs.declared.state.Id.{Id}
use Rattle.ada_meaning.specs.declared.state.Value.{Value}
use Rattle.ada_meaning.specs.declared.state.Value.TheVariants.{Null, Names, Scalar, Part}
use Rattle.ada_meaning.specs.declared.state.Stage.{Stage}
use Rattle.ada_meaning.specs.declared.state.Stage.TheVariants.{Building, Existing, Gone}
use Rattle.ada_meaning.specs.Heap.{Cell, Found, on_null, on_gone, on_other, finds}
use Rattle.ada_meaning.specs.State.{Activation}
use Rattle.ada_meaning.specs.Named.{Object, State, object_at, existing, seen, look, create, named}
use Rattle.ada_meaning.specs.Step.{component_next, follow_next}
use Rattle.ada_owners.specs.Places.{Place, component, is_there, value_at, access_at}
use Rattle.ada_owners.specs.Reliance.{IsOf, Kinds, component_kind, kind_of, Fits}
use Rattle.ada_owners.specs.Walks.{then_found, value_found, behind, walk, kind_behind, MayFollow, FollowsOnly, AreOpen, IsRight, followed_next, PathsWalk}
use Rattle.ada_owners.proofs.Kernel as kernel
use Rattle.ada_owners.proofs.Objects.{at_older, not_past, present_at, component_there}

-- A step of a run that follows a path.
step_behind : (v : Value) (c : ℕ) (cs : List ℕ) (s : State) (w : Option Value) → component_next named v cs w s ≡ followed_next (value_found w) v cs s
step_behind v c cs s None = refl
step_behind v c cs s (Some w) = refl

step_looked : (v : Value) (c : ℕ) (cs : List ℕ) (s : State) (l : Found (Cell Value)) → follow_next named v c cs l s ≡ followed_next (then_found l (λ cell. value_found (slice_get cell.values c))) v cs s
step_looked v c cs s on_null = refl
step_looked v c cs s on_gone = refl
step_looked v c cs s on_other = refl
step_looked v c cs s (finds cell) = step_behind v c cs s (slice_get cell.values c)

pub paths_walk : PathsWalk
paths_walk v c cs s = step_looked v c cs s (look s.heap v)

-- What a value that may be relied on leads to.
pub record Leads (objects : List Object) (kind : Option ℕ) (v : Value) (cell : Cell Value) : Type 0 where
  pub name : Id
  pub access : ℕ
  pub object : Object
  pub is : v ≡ Names name
  pub kind_is : kind ≡ Some access
  pub typed : access_at objects name ≡ Some access
  pub found : object_at objects name ≡ Some object
  pub there : is_there object.stage ≡ true
  pub cell_is : object.cell ≡ cell

abbrev pub LooksRight : List Object → Option ℕ → Value → Found (Cell Value) → Type 0
LooksRight objects kind v on_null = Unit {0}
LooksRight objects kind v on_gone = ⊥
LooksRight objects kind v on_other = Unit {0}
LooksRight objects kind v (finds cell) = Leads objects kind v cell

-- An object that is there is found.
pub found_there : (x : Object) (stage : Stage) → is_there stage ≡ true → existing x stage ≡ finds x.cell
found_there x Building there = refl
found_there x Existing there = refl
found_there x Gone there = absurd (cc there)

looks_named : (objects : List Object) (t : ℕ) (o : Id) → access_at objects o ≡ Some t → LooksRight objects (Some t) (Names o) (look objects (Names o))
looks_named objects t o e =
    let h = present_at objects o t e in
    rw (h.found, found_there h.object h.object.stage h.there) (record { name = o; access = t; object = h.object; is = refl; kind_is = refl; typed = e; found = h.found; there = h.there; cell_is = refl })

pub looks_right : (objects : List Object) (kind : Option ℕ) (v : Value) → ((o : Id) → v ≡ Names o → IsOf (access_at objects) kind o) → LooksRight objects kind v (look objects v)
looks_right objects kind Null right = tt
looks_right objects None (Names o) right = absurd (right o refl)
looks_right objects (Some t) (Names o) right = looks_named objects t o (right o refl)
looks_right objects kind (Scalar n) right = tt
looks_right objects kind (Part o first) right = tt

-- A component's value lies in the component's place.
pub record LiesIn (objects : List Object) (activations : List (Activation Value)) (kind : Option ℕ) (v : Value) (c : ℕ) (w : Value) : Type 0 where
  pub name : Id
  pub access : ℕ
  pub is : v ≡ Names name
  pub kind_is : kind ≡ Some access
  pub typed : access_at objects name ≡ Some access
  pub value : value_at objects activations (component name c) ≡ w

cell_value : (objects : List Object) (activations : List (Activation Value)) (kind : Option ℕ) (v : Value) (cell : Cell Value) (c : ℕ) (w : Value) → Leads objects kind v cell → slice_get cell.values c ≡ Some w → LiesIn objects activations kind v c w
cell_value objects activations kind v cell c w h e =
    let get : slice_get h.object.cell.values c ≡ Some w = rw h.cell_is e in
    record {
      name = h.name;
      access = h.access;
      is = h.is;
      kind_is = h.kind_is;
      typed = h.typed;
      value = rw h.found (component_there h.object c h.there ∙ get_or_from_slice_get h.object.cell.values c w Null get);
    }

module _ (objects : List Object) (activations : List (Activation Value)) (kind : Option ℕ) (v : Value) (c : ℕ) where
  -- What is found behind one selector.
  abbrev pub BehindRight : Found Value → Type 0
  BehindRight on_null = Unit {0}
  BehindRight on_gone = ⊥
  BehindRight on_other = Unit {0}
  BehindRight (finds w) = LiesIn objects activations kind v c w

  value_right : (cell : Cell Value) → Leads objects kind v cell → (w : Option Value) → slice_get cell.values c ≡ w → BehindRight (value_found w)
  value_right cell h None e = tt
  value_right cell h (Some w) e = cell_value objects activations kind v cell c w h e

  looked_right : (l : Found (Cell Value)) → LooksRight objects kind v l → BehindRight (then_found l (λ cell. value_found (slice_get cell.values c)))
  looked_right on_null h = tt
  looked_right on_gone h = h
  looked_right on_other h = tt
  looked_right (finds cell) h = value_right cell h (slice_get cell.values c) refl

  pub behind_right : ((o : Id) → v ≡ Names o → IsOf (access_at objects) kind o) → BehindRight (behind objects v c)
  behind_right right = looked_right (look objects v) (looks_right objects kind v right)

module _ {kinds : Kinds} {objects : List Object} {activations : List (Activation Value)} {hold : Place → Hold} (f : Fits kinds objects activations hold) (P : ℕ → Type 0) (are_open : AreOpen P objects hold) where
  -- What lies there may be relied on in its turn.
  pub next_right : (kind : Option ℕ) (v : Value) (c : ℕ) (w : Value) → MayFollow P kind → LiesIn objects activations kind v c w → (o : Id) → w ≡ Names o → IsOf (access_at objects) (component_kind kinds kind c) o
  next_right kind v c w may h o e =
      let follows : P h.access = rw h.kind_is at may in
      let s = kernel.right_at f.fit (component h.name c) (are_open h.name c h.access h.typed follows) o (h.value ∙ e) in
      rw h.kind_is (rw h.typed at s)

  pub walk_right : (kind : Option ℕ) (v : Value) (cs : List ℕ) → FollowsOnly kinds P kind cs → ((o : Id) → v ≡ Names o → IsOf (access_at objects) kind o) → IsRight objects (kind_behind kinds kind cs) (walk objects v cs)
  walk_right kind v [] only right = right
  walk_right kind v (c ∷ cs) only right = go (behind objects v c) (behind_right objects activations kind v c right) (λ w h. walk_right (component_kind kinds kind c) w cs only.1 (next_right kind v c w only.0 h))
    where
      go : (b : Found Value) → BehindRight objects activations kind v c b → ((w : Value) → LiesIn objects activations kind v c w → IsRight objects (kind_behind kinds (component_kind kinds kind c) cs) (walk objects w cs)) → IsRight objects (kind_behind kinds (component_kind kinds kind c) cs) (then_found b (λ w. walk objects w cs))
      go on_null h more = tt
      go on_gone h more = h
      go on_other h more = tt
      go (finds w) h more = more w h

  -- From a place that is not lost.
  pub path_right : (p : Place) (cs : List ℕ) → hold p ≢ held.Lost → FollowsOnly kinds P (kind_of kinds (access_at objects) p) cs → IsRight objects (kind_behind kinds (kind_of kinds (access_at objects) p) cs) (walk objects (value_at objects activations p) cs)
  path_right p cs ne only = walk_right (kind_of kinds (access_at objects) p) (value_at objects activations p) cs only (λ o e. kernel.right_at f.fit p ne o e)

-- The last selector of a path.
then_finds : (b : Found Value) → then_found b (λ w. finds w) ≡ b
then_finds on_null = refl
then_finds on_gone = refl
then_finds on_other = refl
then_finds (finds w) = refl

then_twice : (b : Found Value) (f g : Value → Found Value) (h : Value → Found Value) → ((w : Value) → f w ≡ then_found (g w) h) → then_found b f ≡ then_found (then_found b g) h
then_twice on_null f g h e = refl
then_twice on_gone f g h e = refl
then_twice on_other f g h e = refl
then_twice (finds w) f g h e = e w

pub walk_last : (objects : List Object) (v : Value) (cs : List ℕ) (c : ℕ) → walk objects v (cs ++ c ∷ []) ≡ then_found (walk objects v cs) (λ w. behind objects w c)
walk_last objects v [] c = then_finds (behind objects v c)
walk_last objects v (d ∷ cs) c = then_twice (behind objects v d) (λ w. walk objects w (cs ++ c ∷ [])) (λ w. walk objects w cs) (λ w. behind objects w c) (λ w. walk_last objects w cs c)

-- A value that names nothing leads nowhere.
pub null_walk : (objects : List Object) (v : Value) (c : ℕ) (cs : List ℕ) (w : Value) → ((o : Id) → v ≡ Names o → ⊥) → walk objects v (c ∷ cs) ≡ finds w → ⊥
null_walk objects Null c cs w none e = cc e
null_walk objects (Names o) c cs w none e = none o refl
null_walk objects (Scalar n) c cs w none e = cc e
null_walk objects (Part o first) c cs w none e = cc e

-- All components may be relied on where none is lent.
pub every_may : (kinds : Kinds) (kind : Option ℕ) (cs : List ℕ) → FollowsOnly kinds (λ t. Unit {0}) kind cs
every_may kinds kind [] = tt
every_may kinds None (c ∷ cs) = (tt, every_may kinds None cs)
every_may kinds (Some t) (c ∷ cs) = (tt, every_may kinds (kinds.components t c) cs)

-- What a path finds it finds after an object is created, too.
module _ (objects : List Object) (words : ℕ) (cell : Cell Value) where
  behind_created : (v : Value) (c : ℕ) (w : Value) → behind objects v c ≡ finds w → behind (create objects words cell) v c ≡ finds w
  behind_created Null c w e = absurd (cc e)
  behind_created (Scalar n) c w e = absurd (cc e)
  behind_created (Part o first) c w e = absurd (cc e)
  behind_created (Names o) c w e = go (object_at objects o) refl e
    where
      go : (x : Option Object) → object_at objects o ≡ x → then_found (seen x) (λ cell. value_found (slice_get cell.values c)) ≡ finds w → behind (create objects words cell) (Names o) c ≡ finds w
      go None is e = absurd (cc e)
      go (Some x) is e = rw (at_older objects words cell o (not_past objects o x is) ∙ is) e

  pub walk_created : (v : Value) (cs : List ℕ) (w : Value) → walk objects v cs ≡ finds w → walk (create objects words cell) v cs ≡ finds w
  walk_created v [] w e = e
  walk_created v (c ∷ cs) w e = go (behind objects v c) refl (λ u. walk_created u cs w) e
    where
      go : (b : Found Value) → behind objects v c ≡ b → ((u : Value) → walk objects u cs ≡ finds w → walk (create objects words cell) u cs ≡ finds w) → then_found b (λ u. walk objects u cs) ≡ finds w → walk (create objects words cell) v (c ∷ cs) ≡ finds w
      go on_null is more e = absurd (cc e)
      go on_gone is more e = absurd (cc e)
      go on_other is more e = absurd (cc e)
      go (finds u) is more e = rw (behind_created v c u is) (more u e)
