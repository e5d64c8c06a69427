-- The pools of access types are there.

use Rattle.std.proofs.Common.{◌≡◌, ℕ, ◌≤◌, Bool, true, false, cond, List, [], ◌∷◌, length, refl, arith}
use Rattle.std.specs.Prelude.{Option, Some, None}
use Rattle.std.specs.List.{list_all}
use Rattle.std.proofs.lemmas.Bool.{lt-ltb, ltb-true}
use Rattle.ada_tree.specs.Declarations.{AspectTree, SizeTree, number_size, named_size}
use Rattle.ada_tree.specs.Names.{Ident}
use Rattle.ada_program.specs.ProgramForm.{TypeForm, record_of, access_to, object_of, pool_number}
use Rattle.ada_program.specs.WellFormed as fits
use Rattle.ada_resolve.specs.declared.scope.Entity.{Entity}
use Rattle.ada_resolve.specs.declared.scope.Entity.TheVariants as entity
use Rattle.ada_resolve.specs.Clauses.{clause_pool}
use Rattle.ada_resolve.specs.Known.{Known, Part, visible}
use Rattle.ada_resolve.specs.Pools.{pool_in, pool_found, aspect_found, is_storage_pool}
use Rattle.ada_resolve.proofs.WellFormed.Called.{visible_called}
use Rattle.ada_resolve.proofs.WellFormed.Tables.{all_weaker}
use Rattle.ada_resolve.proofs.Standing.Order.{IsCalled, PartsCalled, Sound}

-- the pool that a name stands for
pool_one : (n m : ℕ) (e : Entity) → IsCalled n m e → fits.is_known_pool m (pool_number (pool_in (Some e))) ≡ true
pool_one n m (entity.Pool p) w = lt-ltb p.0 m w
pool_one n m e w = refl

pool_named : (n m : ℕ) (o : Option Entity) → ((e : Entity) → o ≡ Some e → IsCalled n m e) → fits.is_known_pool m (pool_number (pool_in o)) ≡ true
pool_named n m None w = refl
pool_named n m (Some e) w = pool_one n m e (w e refl)

pub found_known : (k : Known) (name : Ident) → Sound k → fits.is_known_pool (length k.pools) (pool_number (pool_found k name)) ≡ true
unfolding pool_found
found_known k name s = pool_named (length k.bodies) (length k.pools) (visible k name.text) (visible_called k s.called name.text)

-- that of an aspect, and of a clause
pub aspect_pool_known : (k : Known) (aspect : Option AspectTree) → Sound k → fits.is_known_pool (length k.pools) (pool_number (aspect_found k aspect)) ≡ true
aspect_pool_known k None s = refl
aspect_pool_known k (Some aspect) s = by_name (is_storage_pool aspect.name)
  where
    by_name : (b : Bool) → fits.is_known_pool (length k.pools) (pool_number (cond b (pool_found k aspect.value) None)) ≡ true
    by_name true = found_known k aspect.value s
    by_name false = refl

pub clause_pool_known : (k : Known) (value : SizeTree) → Sound k → fits.is_known_pool (length k.pools) (pool_number (clause_pool k value)) ≡ true
clause_pool_known k (number_size spot n) s = refl
clause_pool_known k (named_size name) s = found_known k name s

-- what is there is so still among more
entity_later : (n m a b : ℕ) → n ≤ a → m ≤ b → (e : Entity) → IsCalled n m e → IsCalled a b e
entity_later n m a b first second (entity.Callable p) w = omega (arith, first, w)
entity_later n m a b first second (entity.Pool p) w = omega (arith, second, w)
entity_later n m a b first second e w = tt

pub called_later : (n m a b : ℕ) → n ≤ a → m ≤ b → (ps : List Part) → PartsCalled n m ps → PartsCalled a b ps
called_later n m a b first second [] w = tt
called_later n m a b first second (p ∷ ps) w = (λ text e is. entity_later n m a b first second e (w.0 text e is), called_later n m a b first second ps w.1)

pool_later : (n m : ℕ) → n ≤ m → (pool : Option ℕ) → fits.is_known_pool n pool ≡ true → fits.is_known_pool m pool ≡ true
pool_later n m le None e = refl
pool_later n m le (Some pool) e = let less = ltb-true pool n e in lt-ltb pool m (omega (arith, less, le))

has_later : (n m : ℕ) → n ≤ m → (form : TypeForm) → fits.has_known_pool n form ≡ true → fits.has_known_pool m form ≡ true
has_later n m le (record_of name ps cs final) e = refl
has_later n m le (access_to name d pool) e = pool_later n m le pool e
has_later n m le (object_of r) e = refl

pub housed_later : (n m : ℕ) → n ≤ m → (types : List TypeForm) → list_all (fits.has_known_pool n) types ≡ true → list_all (fits.has_known_pool m) types ≡ true
housed_later n m le types all = all_weaker (fits.has_known_pool n) (fits.has_known_pool m) (has_later n m le) types all
