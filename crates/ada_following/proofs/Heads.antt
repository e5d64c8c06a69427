-- Words of what a step finds: objects that are followed, and members that are picked.

use Rattle.std.proofs.Common.{◌≡◌, ℕ, zero, suc, ◌-◌, ◌<◌, Bool, true, false, if◌then◌else◌, List, [], ◌∷◌, length, map, Option, Some, None, refl, ap, ◌∙◌, arith}
use Rattle.std.specs.List.{slice_get, slice_index_or}
use Rattle.ada_meaning.specs.declared.state.Id.{Id}
use Rattle.ada_meaning.specs.declared.state.Value.{Value}
use Rattle.ada_meaning.specs.declared.state.Value.TheVariants.{Null, Names, Scalar, Part}
use Rattle.ada_meaning.specs.declared.state.Stage.{Stage}
use Rattle.ada_meaning.specs.declared.state.Stage.TheVariants.{Building, Existing, Gone}
use Rattle.ada_meaning.specs.Heap.{Cell, on_gone, finds}
use Rattle.ada_meaning.specs.Named.{Object, existing, seen, look, lent_by, lent}
use Rattle.ada_storage.specs.State.{in_list}
use Rattle.ada_storage.proofs.Facts.{same_self}
use Rattle.ada_following.specs.Reading.{number, is_out}
use Rattle.ada_following.proofs.Heaps.{Heap, AreFine}

-- An object that exists.
pub record Looked (h : Heap) (v : Value) (cell : Cell Value) : Type 0 where
  pub o : Id
  pub x : Object
  pub names : v ≡ Names o
  pub there : slice_get h o.0 ≡ Some x
  pub stays : x.stage ≡ Gone → ⊥
  pub lies : x.cell ≡ cell

staged : (x : Object) (stage : Stage) (cell : Cell Value) → existing x stage ≡ finds cell → (stage ≡ Gone → ⊥) × (x.cell ≡ cell)
staged x Building cell e = ((λ g. cc), cc)
staged x Existing cell e = ((λ g. cc), cc)
staged x Gone cell e = absurd (cc)

seen_there : (h : Heap) (o : Id) (found : Option Object) (cell : Cell Value) → slice_get h o.0 ≡ found → seen found ≡ finds cell → Looked h (Names o) cell
seen_there h o None cell is e = absurd (cc)
seen_there h o (Some x) cell is e = let s = staged x x.stage cell e in record { o = o; x = x; names = refl; there = is; stays = s.0; lies = s.1 }

pub looked : (h : Heap) (v : Value) (cell : Cell Value) → look h v ≡ finds cell → Looked h v cell
looked h Null cell e = absurd (cc)
looked h (Names o) cell e = seen_there h o (slice_get h o.0) cell refl e
looked h (Scalar v) cell e = absurd (cc)
looked h (Part o first) cell e = absurd (cc)

-- Its words are out.
pub looked_out : (h : Heap) (v : Value) (cell : Cell Value) (l : Looked h v cell) → AreFine h → l.x.out ≡ true
looked_out h v cell l fine = go l.x.out refl
  where
    go : (b : Bool) → l.x.out ≡ b → l.x.out ≡ true
    go true is = is
    go false is = absurd (l.stays ((fine l.o.0 l.x l.there).0 is))

-- An object whose words are out.
pub record IsThere (h : Heap) (o : ℕ) : Type 0 where
  pub x : Object
  pub there : slice_get h o ≡ Some x
  pub out : x.out ≡ true

out_go : (h : Heap) (o : ℕ) (found : Option Object) → slice_get h o ≡ found → is_out found ≡ true → IsThere h o
out_go h o None is e = absurd (cc)
out_go h o (Some x) is e = record { x = x; there = is; out = e }

pub out_there : (h : Heap) (o : ℕ) → is_out (slice_get h o) ≡ true → IsThere h o
out_there h o e = out_go h o (slice_get h o) refl e

-- What is in its collection is found.
pub look_listed : (h : Heap) (o : Id) (x : Object) → slice_get h o.0 ≡ Some x → x.listed ≡ true → AreFine h → look h (Names o) ≡ finds x.cell
look_listed h o x is listed fine = ap seen is ∙ go x.stage refl
  where
    go : (stage : Stage) → x.stage ≡ stage → existing x x.stage ≡ finds x.cell
    go Building e = ap (existing x) e
    go Existing e = ap (existing x) e
    go Gone e = absurd ((fine o.0 x is).1 listed e)

-- What is lent.
pub lent_there : (h : Heap) (o : Id) (x : Object) → slice_get h o.0 ≡ Some x → x.out ≡ true → lent h (Names o) ≡ finds x.cell
lent_there h o x is e = ap lent_by is ∙ ap (λ (b : Bool). if b then finds x.cell else on_gone) e

-- One of the members is picked.
pub record Picked (ids : List Id) (v : Value) : Type 0 where
  pub o : Id
  pub names : v ≡ Names o
  pub less : ℕ
  pub counted : in_list o.0 (map number ids) ≡ suc less

pub picked : (ids : List Id) (i : ℕ) → i < length ids → Picked ids (slice_index_or (map Names ids) i Null)
picked [] i lt = absurd (omega (arith, lt))
picked (o ∷ ids) zero lt = let one = same_self o.0 in record { o = o; names = refl; less = in_list o.0 (map number ids); counted = omega (arith, one) }
picked (o ∷ ids) (suc i) lt =
    let p = picked ids i (omega (arith, lt)) in
    let c = p.counted in
    record { o = p.o; names = p.names; less = in_list p.o.0 (number o ∷ map number ids) - 1; counted = omega (arith, c) }
