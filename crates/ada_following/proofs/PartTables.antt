-- Controlled parts of objects in a heap that changes, and in the tables of storage.

use Rattle.std.proofs.Common.{◌≡◌, ◌≢◌, ℕ, zero, suc, Bool, true, false, cond, List, [], ◌∷◌, ◌++◌, length, map, Option, Some, None, refl, sym, ap, ◌∙◌, inl, inr}
use Rattle.std.specs.Prelude.{◌==◌}
use Rattle.std.specs.List.{slice_get, slice_set}
use Rattle.std.proofs.lemmas.Bool.Decides.{eqb_tells}
use Rattle.ada_program.specs.declared.program.TypeDefinition.{TypeDefinition}
use Rattle.ada_program.specs.Controlled.{number_reached, shapes_of}
use Rattle.ada_meaning.specs.declared.state.Id.{Id}
use Rattle.ada_meaning.specs.declared.state.Value.TheVariants.{Names}
use Rattle.ada_meaning.specs.Heap.{PartState}
use Rattle.ada_meaning.specs.Step.{new_part}
use Rattle.ada_meaning.specs.Named.{Object, with_part, treated, changed, on_object}
use Rattle.ada_storage.specs.State.{put, put_part, in_list, without}
use Rattle.ada_storage.specs.State as storage
use Rattle.ada_following.specs.Forests.{forest_for}
use Rattle.ada_following.specs.Reading.{part_of, is_alive, turn_of, forest_seen}
use Rattle.ada_following.proofs.Heaps.{Heap, set_here, set_there, add_here, add_there, put_set, put_add, put_same, access_of}

-- What is known of the parts then.
module _ {Y : Type 0} (f : Option PartState → Y) (change : PartState → PartState) (xs : Heap) (o : Id) (p : ℕ) (x : Object) (s : PartState) (is : slice_get xs o.0 ≡ Some x) (there : slice_get x.cell.parts p ≡ Some s) where
  inside_is : (q : ℕ) → part_of (Some (treated change p x)) q ≡ slice_get (slice_set x.cell.parts p (change s)) q
  inside_is q = ap (λ (found : Option PartState). slice_get (with_part change p found x.cell.parts) q) there

  changed_is : (y q : ℕ) → part_of (slice_get (on_object (treated change p) xs (Names o)) y) q ≡ part_of (slice_get (slice_set xs o.0 (treated change p x)) y) q
  changed_is y q = ap (λ (found : Option Object). part_of (slice_get (changed (treated change p) found xs o) y) q) is

  pub part_changes : (y q : ℕ) → f (part_of (slice_get (on_object (treated change p) xs (Names o)) y) q) ≡ put_part (λ z r. f (part_of (slice_get xs z) r)) o.0 p (f (Some (change s))) y q
  part_changes y q = ap f (changed_is y q) ∙ elim (eqb_tells y o.0) [ inl h ↦ here h.0 h.1 | inr h ↦ elsewhere h.0 h.1 ]
    where
      here : (y == o.0) ≡ true → y ≡ o.0 → f (part_of (slice_get (slice_set xs o.0 (treated change p x)) y) q) ≡ put_part (λ z r. f (part_of (slice_get xs z) r)) o.0 p (f (Some (change s))) y q
      here b e =
          ap (λ (z : ℕ). f (part_of (slice_get (slice_set xs o.0 (treated change p x)) z) q)) e
          ∙ ap (λ (found : Option Object). f (part_of found q)) (set_here xs o.0 x (treated change p x) is)
          ∙ ap f (inside_is q) ∙ put_set f x.cell.parts p s (change s) there q
          ∙ ap (λ (found : Option Object). cond (q == p) (f (Some (change s))) (f (part_of found q))) (sym is)
          ∙ ap (λ (z : ℕ). cond (q == p) (f (Some (change s))) (f (part_of (slice_get xs z) q))) (sym e)
          ∙ sym (ap (λ (c : Bool). cond c (cond (q == p) (f (Some (change s))) (f (part_of (slice_get xs y) q))) (f (part_of (slice_get xs y) q))) b)

      elsewhere : (y == o.0) ≡ false → y ≢ o.0 → f (part_of (slice_get (slice_set xs o.0 (treated change p x)) y) q) ≡ put_part (λ z r. f (part_of (slice_get xs z) r)) o.0 p (f (Some (change s))) y q
      elsewhere b ne =
          ap (λ (found : Option Object). f (part_of found q)) (set_there xs o.0 y x (treated change p x) is ne)
          ∙ sym (ap (λ (c : Bool). cond c (cond (q == p) (f (Some (change s))) (f (part_of (slice_get xs y) q))) (f (part_of (slice_get xs y) q))) b)

  pub part_same : f (Some (change s)) ≡ f (Some s) → (y q : ℕ) → f (part_of (slice_get (on_object (treated change p) xs (Names o)) y) q) ≡ f (part_of (slice_get xs y) q)
  part_same e y q =
      ap f (changed_is y q)
      ∙ put_same (λ (found : Option Object). f (part_of found q)) xs o.0 x (treated change p x) is (ap f (inside_is q) ∙ put_same f x.cell.parts p s (change s) there e q) y

-- Tables of storage with the same parts.
pub record Parts (types : List TypeDefinition) (xs : Heap) (T : ℕ → storage.Object) (A : ℕ → ℕ → Bool) (U : ℕ → ℕ → ℕ) : Type 0 where
  pub shape : (o : ℕ) → (T o).shape ≡ forest_seen types (slice_get xs o)
  pub alive : (o p : ℕ) → A o p ≡ is_alive (part_of (slice_get xs o) p)
  pub turn : (o p : ℕ) → U o p ≡ turn_of (part_of (slice_get xs o) p)

abbrev forest_by : List TypeDefinition → Option ℕ → storage.Forest
forest_by types None = storage.none
forest_by types (Some access) = forest_for (shapes_of types) (number_reached types access)

forest_is : (types : List TypeDefinition) (found : Option Object) → forest_seen types found ≡ forest_by types (access_of found)
forest_is types None = refl
forest_is types (Some x) = refl

pub same_forest : (types : List TypeDefinition) (a b : Option Object) → access_of a ≡ access_of b → forest_seen types a ≡ forest_seen types b
same_forest types a b e = forest_is types a ∙ ap (forest_by types) e ∙ sym (forest_is types b)

pub parts_kept :
    (types : List TypeDefinition) (xs ys : Heap) (T : ℕ → storage.Object) (A : ℕ → ℕ → Bool) (U : ℕ → ℕ → ℕ)
    → ((o : ℕ) → access_of (slice_get ys o) ≡ access_of (slice_get xs o)) → ((o p : ℕ) → part_of (slice_get ys o) p ≡ part_of (slice_get xs o) p)
    → Parts types xs T A U → Parts types ys T A U
parts_kept types xs ys T A U access parts r = record {
  shape = λ o. r.shape o ∙ sym (same_forest types (slice_get ys o) (slice_get xs o) (access o));
  alive = λ o p. r.alive o p ∙ ap is_alive (sym (parts o p));
  turn = λ o p. r.turn o p ∙ ap turn_of (sym (parts o p));
}

-- A new object.
none_alive : (firsts : List ℕ) (p : ℕ) → is_alive (slice_get (map new_part firsts) p) ≡ false
none_alive [] p = refl
none_alive (c ∷ firsts) zero = refl
none_alive (c ∷ firsts) (suc p) = none_alive firsts p

no_turn : (firsts : List ℕ) (p : ℕ) → turn_of (slice_get (map new_part firsts) p) ≡ 0
no_turn [] p = refl
no_turn (c ∷ firsts) zero = refl
no_turn (c ∷ firsts) (suc p) = no_turn firsts p

pub nothing_at_end : (xs : Heap) → slice_get xs (length xs) ≡ None
nothing_at_end [] = refl
nothing_at_end (x ∷ xs) = nothing_at_end xs

added_same : {Y : Type 0} (f : Option Object → Y) (xs : Heap) (x : Object) → f (Some x) ≡ f None → (o : ℕ) → f (slice_get (xs ++ x ∷ []) o) ≡ f (slice_get xs o)
added_same f xs x e o = elim (eqb_tells o (length xs)) [ inl h ↦ at_end h.1 | inr h ↦ ap f (add_there xs x o h.1) ]
  where
    at_end : o ≡ length xs → f (slice_get (xs ++ x ∷ []) o) ≡ f (slice_get xs o)
    at_end is = ap (λ j. f (slice_get (xs ++ x ∷ []) j)) is ∙ ap f (add_here xs x) ∙ e ∙ sym (ap f (nothing_at_end xs)) ∙ ap (λ j. f (slice_get xs j)) (sym is)

shape_cond : (b : Bool) (a c : storage.Object) → (cond b a c).shape ≡ cond b a.shape c.shape
shape_cond true a c = refl
shape_cond false a c = refl

pub parts_added :
    (types : List TypeDefinition) (xs : Heap) (x : Object) (firsts : List ℕ) (created : ℕ) (object : storage.Object) (T : ℕ → storage.Object) (A : ℕ → ℕ → Bool) (U : ℕ → ℕ → ℕ)
    → x.cell.parts ≡ map new_part firsts → created ≡ length xs → object.shape ≡ forest_seen types (Some x)
    → Parts types xs T A U → Parts types (xs ++ x ∷ []) (put T created object) A U
parts_added types xs x firsts created object T A U new is shape r = record {
  shape = λ o.
      shape_cond (o == created) object (T o)
      ∙ ap (λ (f : storage.Forest). cond (o == created) f (T o).shape) shape
      ∙ ap (λ (f : storage.Forest). cond (o == created) (forest_seen types (Some x)) f) (r.shape o)
      ∙ ap (λ (c : ℕ). cond (o == c) (forest_seen types (Some x)) (forest_seen types (slice_get xs o))) is
      ∙ sym (put_add (forest_seen types) xs x o);
  alive = λ o p. r.alive o p ∙ sym (added_same (λ f. is_alive (part_of f p)) xs x (ap (λ (ps : List PartState). is_alive (slice_get ps p)) new ∙ none_alive firsts p) o);
  turn = λ o p. r.turn o p ∙ sym (added_same (λ f. turn_of (part_of f p)) xs x (ap (λ (ps : List PartState). turn_of (slice_get ps p)) new ∙ no_turn firsts p) o);
}
