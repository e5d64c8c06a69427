-- The pool of each object whose words are out exists: it is that of its collection, and was created before it.

use Rattle.std.proofs.Common.{ℕ, suc, List, [], ◌∷◌, inl, inr, arith}
use Rattle.std.specs.Prelude.{Option, Some, None, IfSome}
use Rattle.ada_program.specs.declared.program.TypeDefinition.{TypeDefinition}
use Rattle.ada_program.specs.Typed.{pool_named}
use Rattle.ada_meaning.specs.State.{Owned, declared, collection, record_object, storage_pool, Item}
use Rattle.ada_meaning.specs.Law.{Exists}
use Rattle.ada_order.specs.Masters.{IsPoolOf, HasItsPool, HaveTheirPools}
use Rattle.ada_sound.proofs.Items.{Houses, HasItem}

more : (i : Item) (is : List Item) (pool : ℕ) → Exists is pool → Exists (i ∷ is) pool
more i is pool (inl e) = inl e
more i is pool (inr h) = inr (h.0, h.1, (suc h.2.0, omega (arith, h.2.1), h.2.2), h.3)

found : (is : List Item) (declaration : Option ℕ) (pool : ℕ) → IsPoolOf is declaration pool → Exists is pool
found is None pool h = inl h
found is (Some p) pool h = inr (h.0, p, h.1, h.2)

behind : (types : List TypeDefinition) (older : List Item) (owned : Owned) (access pool : ℕ) → HasItsPool types older owned → Houses owned access (Some pool) → Exists older pool
behind types older (declared x) access pool has h = absurd h
behind types older (collection t own) access pool has h =
    let own_is : IfSome (Some pool) (IsPoolOf older (pool_named types t)) = rw (h.1) at has in
    found older (pool_named types t) pool own_is
behind types older (record_object t) access pool has h = let none = h.1 in absurd (cc none)
behind types older (storage_pool declaration number) access pool has h = absurd h

among : (types : List TypeDefinition) (is : List Item) (n access pool : ℕ) → HaveTheirPools types is → HasItem n access (Some pool) is → Exists is pool
among types [] n access pool have h = absurd h
among types (i ∷ is) n access pool have (inl e) = more i is pool (behind types is i.owned access pool have.0 e.1)
among types (i ∷ is) n access pool have (inr h) = more i is pool (among types is n access pool have.1 h)

pub pool_exists : (types : List TypeDefinition) (is : List Item) (n access : ℕ) (pool : Option ℕ) → HaveTheirPools types is → HasItem n access pool is → IfSome pool (Exists is)
pool_exists types is n access None have h = tt
pool_exists types is n access (Some pool) have h = among types is n access pool have h
