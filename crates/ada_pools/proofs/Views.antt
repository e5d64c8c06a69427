-- What the answers depend on, where the pools and the blocks of objects change.

use Rattle.std.proofs.Common.{◌≡◌, ◌≢◌, ℕ, zero, suc, ◌<◌, ◌≤◌, inl, inr, Bool, true, false, List, [], ◌∷◌, ◌++◌, map, take, refl, sym, ap, ◌∙◌, subst, arith, Option, Some, None, nat_lt}
use Rattle.std.specs.Prelude.{◌==◌, if◌then◌else◌}
use Rattle.std.specs.List.{slice_get, slice_set, slice_index_or}
use Rattle.std.proofs.Math.Path.{fun_ext}
use Rattle.std.proofs.lemmas.Bool.{ne_eqb, eq-eqb, eqb-true}
use Rattle.std.proofs.lemmas.Bool.Decides.{eqb_tells, leb_tells}
use Rattle.std.proofs.lemmas.List.{map-set, map-append, take-map}
use Rattle.pool_tiles.specs.Tiling.{Tile, fit, put_back, block_words}
use Rattle.ada_meaning.specs.declared.state.Id.{Id}
use Rattle.ada_meaning.specs.declared.state.Value.TheVariants.{Names}
use Rattle.ada_pools.specs.declared.held.Block.{Block}
use Rattle.ada_pools.specs.Entries.{entries_of, updated}
use Rattle.ada_pools.specs.Held.{Held, is_of, object_of, object_at, still, TakesIn, put_back_of, all_put_back, changed_pool, new_pool}
use Rattle.ada_pools.specs.Runner.{Runner, tiling, granted, allocated, given_back, begun, below, gone}
use Rattle.ada_pools.specs.View.{tiles_of, blocks_in, runner_with}
use Rattle.ada_pools.proofs.Tables.{is_updated, updated_here, updated_else, set_one}
use Rattle.ada_pools.proofs.Holding.{within}

-- The pool that changes, and the others.

get_set_here : (pools : List Held) (p : ℕ) (old new : Held) → slice_get pools p ≡ Some old → slice_get (slice_set pools p new) p ≡ Some new
get_set_here [] p old new e = absurd (cc e)
get_set_here (h ∷ pools) zero old new e = refl
get_set_here (h ∷ pools) (suc p) old new e = get_set_here pools p old new e

get_set_else : (pools : List Held) (p : ℕ) (new : Held) (q : ℕ) → q ≢ p → slice_get (slice_set pools p new) q ≡ slice_get pools q
get_set_else [] p new q away = refl
get_set_else (h ∷ pools) zero new zero away = absurd (away refl)
get_set_else (h ∷ pools) zero new (suc q) away = refl
get_set_else (h ∷ pools) (suc p) new zero away = refl
get_set_else (h ∷ pools) (suc p) new (suc q) away = get_set_else pools p new q (λ same. away (omega (arith, same)))

set_same : (pools : List Held) (p : ℕ) (old : Held) → slice_get pools p ≡ Some old → slice_set pools p old ≡ pools
set_same [] p old e = refl
set_same (h ∷ pools) zero old e = ap (λ (x : Held). x ∷ pools) (ap (held_or h) (sym e)) where
  held_or : Held → Option Held → Held
  held_or d None = d
  held_or d (Some x) = x
set_same (h ∷ pools) (suc p) old e = ap (λ (xs : List Held). h ∷ xs) (set_same pools p old e)

tiling_here : (pools : List Held) (p : ℕ) (old : Held) → slice_get pools p ≡ Some old → slice_index_or (map tiles_of pools) p [] ≡ old.tiles
tiling_here [] p old e = absurd (cc e)
tiling_here (h ∷ pools) zero old e = ap (tiles_or h) e where
  tiles_or : Held → Option Held → List Tile
  tiles_or d None = d.tiles
  tiles_or d (Some x) = x.tiles
tiling_here (h ∷ pools) (suc p) old e = tiling_here pools p old e

tiling_none : (pools : List Held) (p : ℕ) → slice_get pools p ≡ None → slice_index_or (map tiles_of pools) p [] ≡ []
tiling_none [] p e = refl
tiling_none (h ∷ pools) zero e = absurd (cc e)
tiling_none (h ∷ pools) (suc p) e = tiling_none pools p e

-- Whose a block is.

still_same : (pools others : List Held) (name : ℕ) (given : Option Block)
    → ((b : Block) → is_of name (object_at others b.pool b.place) ≡ is_of name (object_at pools b.pool b.place)) → still others name given ≡ still pools name given
still_same pools others name None same = refl
still_same pools others name (Some b) same = ap (λ (mine : Bool). if mine then Some b else None) (same b)

-- the entry at one place of one pool changes, from none or another object's to none or another object's
else_same : (pools : List Held) (p q name : ℕ) (old new : Held) (e : Option ℕ) → slice_get pools p ≡ Some old
    → entries_of new.objects ≡ updated (entries_of old.objects) q e → is_of name (entries_of old.objects q) ≡ false → is_of name e ≡ false
    → (b : Block) → is_of name (object_at (slice_set pools p new) b.pool b.place) ≡ is_of name (object_at pools b.pool b.place)
else_same pools p q name old new e there changes before after b = elim (eqb_tells b.pool p) [
  | inl same ↦ subst (λ (k : ℕ). is_of name (object_at (slice_set pools p new) k b.place) ≡ is_of name (object_at pools k b.place)) (sym same.1) in_it
  | inr away ↦ ap (λ (h : Option Held). is_of name (object_of h b.place)) (get_set_else pools p new b.pool away.1)
] where
  entry_is : entries_of new.objects b.place ≡ updated (entries_of old.objects) q e b.place
  entry_is = ap (λ (f : ℕ → Option ℕ). f b.place) changes

  at_place : is_of name (entries_of new.objects b.place) ≡ is_of name (entries_of old.objects b.place)
  at_place = elim (eqb_tells b.place q) [
    | inl same ↦
        ap (is_of name) (entry_is ∙ ap (updated (entries_of old.objects) q e) same.1 ∙ updated_here (entries_of old.objects) q e)
        ∙ after ∙ sym before ∙ ap (λ (k : ℕ). is_of name (entries_of old.objects k)) (sym same.1)
    | inr away ↦ ap (is_of name) (entry_is ∙ updated_else (entries_of old.objects) q e b.place away.1)
  ]

  in_it : is_of name (object_at (slice_set pools p new) p b.place) ≡ is_of name (object_at pools p b.place)
  in_it =
      ap (λ (h : Option Held). is_of name (object_of h b.place)) (get_set_here pools p old new there)
      ∙ at_place ∙ ap (λ (h : Option Held). is_of name (object_of h b.place)) (sym there)

-- an object is given a block
pub blocks_taken : (pools : List Held) (p q name : ℕ) (old new : Held) (blocks given : ℕ → Option Block) → slice_get pools p ≡ Some old
    → entries_of old.objects q ≡ None → entries_of new.objects ≡ updated (entries_of old.objects) q (Some name)
    → given ≡ updated blocks name (Some (record { pool = p; place = q }))
    → blocks_in (slice_set pools p new) given ≡ updated (blocks_in pools blocks) name (Some (record { pool = p; place = q }))
blocks_taken pools p q name old new blocks given there free changes gives =
    is_updated (blocks_in (slice_set pools p new) given) (blocks_in pools blocks) name (Some (record { pool = p; place = q })) mine others where
      mine : blocks_in (slice_set pools p new) given name ≡ Some (record { pool = p; place = q })
      mine =
          ap (still (slice_set pools p new) name) (ap (λ (f : ℕ → Option Block). f name) gives ∙ updated_here blocks name (Some (record { pool = p; place = q })))
          ∙ ap (λ (h : Option Held). if is_of name (object_of h q) then Some (record { pool = p; place = q }) else None) (get_set_here pools p old new there)
          ∙ ap (λ (o : Option ℕ). if is_of name o then Some (record { pool = p; place = q }) else None) (ap (λ (f : ℕ → Option ℕ). f q) changes ∙ updated_here (entries_of old.objects) q (Some name))
          ∙ ap (λ (b : Bool). if b then Some (record { pool = p; place = q }) else None) (eq-eqb name name refl)

      others : (other : ℕ) → other ≢ name → blocks_in (slice_set pools p new) given other ≡ blocks_in pools blocks other
      others other away =
          ap (still (slice_set pools p new) other) (ap (λ (f : ℕ → Option Block). f other) gives ∙ updated_else blocks name (Some (record { pool = p; place = q })) other away)
          ∙ still_same pools (slice_set pools p new) other (blocks other)
          (else_same pools p q other old new (Some name) there changes (ap (is_of other) free) (ne_eqb name other (λ same. away (sym same))))

-- the block of an object is put back
pub blocks_put_back : (pools : List Held) (p q name : ℕ) (old new : Held) (blocks left : ℕ → Option Block) → slice_get pools p ≡ Some old
    → entries_of old.objects q ≡ Some name → entries_of new.objects ≡ updated (entries_of old.objects) q None
    → left ≡ updated blocks name None
    → blocks_in (slice_set pools p new) left ≡ updated (blocks_in pools blocks) name None
blocks_put_back pools p q name old new blocks left there owned changes leaves =
    is_updated (blocks_in (slice_set pools p new) left) (blocks_in pools blocks) name None mine others where
      mine : blocks_in (slice_set pools p new) left name ≡ None
      mine = ap (still (slice_set pools p new) name) (ap (λ (f : ℕ → Option Block). f name) leaves ∙ updated_here blocks name None)

      others : (other : ℕ) → other ≢ name → blocks_in (slice_set pools p new) left other ≡ blocks_in pools blocks other
      others other away =
          ap (still (slice_set pools p new) other) (ap (λ (f : ℕ → Option Block). f other) leaves ∙ updated_else blocks name None other away)
          ∙ still_same pools (slice_set pools p new) other (blocks other)
          (else_same pools p q other old new None there changes (ap (is_of other) owned ∙ ne_eqb name other (λ same. away (sym same))) refl)

-- a block that is not its object's any more is forgotten
pub blocks_dropped : (pools : List Held) (name : ℕ) (blocks left : ℕ → Option Block) → left ≡ updated blocks name None → blocks_in pools blocks name ≡ None
    → blocks_in pools left ≡ blocks_in pools blocks
blocks_dropped pools name blocks left leaves lost = fun_ext at where
  at : (other : ℕ) → blocks_in pools left other ≡ blocks_in pools blocks other
  at other = elim (eqb_tells other name) [
    | inl same ↦
        ap (still pools other) (ap (λ (f : ℕ → Option Block). f other) leaves ∙ ap (updated blocks name None) same.1 ∙ updated_here blocks name None)
        ∙ sym (ap (blocks_in pools blocks) same.1 ∙ lost)
    | inr away ↦ ap (still pools other) (ap (λ (f : ℕ → Option Block). f other) leaves ∙ updated_else blocks name None other away.1)
  ]

-- a pool that begins has no block
object_new : (pools : List Held) (words p q : ℕ) → object_at (pools ++ new_pool words ∷ []) p q ≡ object_at pools p q
object_new [] words zero q = refl
object_new [] words (suc p) q = refl
object_new (h ∷ pools) words zero q = refl
object_new (h ∷ pools) words (suc p) q = object_new pools words p q

pub blocks_begun : (pools : List Held) (words : ℕ) (blocks : ℕ → Option Block) → blocks_in (pools ++ new_pool words ∷ []) blocks ≡ blocks_in pools blocks
blocks_begun pools words blocks =
    fun_ext (λ name. still_same pools (pools ++ new_pool words ∷ []) name (blocks name) (λ b. ap (is_of name) (object_new pools words b.pool b.place)))

-- what is left of the pools
object_left : (pools : List Held) (k p q : ℕ) → p < k → object_at (take k pools) p q ≡ object_at pools p q
object_left pools zero p q less = absurd (omega arith)
object_left [] (suc k) p q less = refl
object_left (h ∷ pools) (suc k) zero q less = refl
object_left (h ∷ pools) (suc k) (suc p) q less = object_left pools k p q (omega arith)

object_lost : (pools : List Held) (k p q : ℕ) → k ≤ p → object_at (take k pools) p q ≡ None
object_lost pools zero p q more = refl
object_lost [] (suc k) p q more = refl
object_lost (h ∷ pools) (suc k) zero q more = absurd (omega arith)
object_lost (h ∷ pools) (suc k) (suc p) q more = object_lost pools k p q (omega arith)

still_left : (pools : List Held) (k name : ℕ) (given : Option Block) → still (take k pools) name given ≡ below k (still pools name given)
still_left pools k name None = refl
still_left pools k name (Some b) = elim (leb_tells (suc b.pool) k) [
  | inl inside ↦
      ap (λ (o : Option ℕ). if is_of name o then Some b else None) (object_left pools k b.pool b.place (omega (arith, inside.1)))
      ∙ sym (below_mine true inside.0 (is_of name (object_at pools b.pool b.place)))
  | inr beyond ↦
      ap (λ (o : Option ℕ). if is_of name o then Some b else None) (object_lost pools k b.pool b.place (omega (arith, beyond.1)))
      ∙ sym (below_mine false beyond.0 (is_of name (object_at pools b.pool b.place)))
] where
  below_mine : (inside : Bool) → nat_lt b.pool k ≡ inside → (mine : Bool)
      → below k (if mine then Some b else None) ≡ (if inside then (if mine then Some b else None) else None)
  below_mine true e true = ap (λ (t : Bool). if t then Some b else None) e
  below_mine true e false = refl
  below_mine false e true = ap (λ (t : Bool). if t then Some b else None) e
  below_mine false e false = refl

pub blocks_left : (pools : List Held) (k : ℕ) (blocks : ℕ → Option Block) → blocks_in (take k pools) blocks ≡ (λ name. below k (blocks_in pools blocks name))
blocks_left pools k blocks = fun_ext (λ name. still_left pools k name (blocks name))

-- The answers.

-- a request that is not the one that is refused
pub granted_else : (pool words : ℕ) (r : Runner) → (r.until == 1) ≡ false → granted pool words r ≡ fit 0 (block_words words) (tiling pool r)
granted_else pool words r other = ap (λ (refused : Bool). if refused then None else fit 0 (block_words words) (tiling pool r)) other

-- what is nothing is none
pub is_none : (place : Option ℕ) → ((p : ℕ) → place ≡ Some p → ⊥) → place ≡ None
is_none None not_some = refl
is_none (Some p) not_some = absurd (not_some p refl)

-- an allocator gets its block
pub allocates : (until : ℕ) (sizes : List ℕ) (pools others : List Held) (blocks given : ℕ → Option Block) (pool words place : ℕ) (object : Id)
    → TakesIn pool words object.0 pools (slice_get pools pool) (Some place) others
    → given ≡ updated blocks object.0 (Some (record { pool = pool; place = place }))
    → let r = runner_with until sizes pools blocks in
    allocated pool (Names object) (fit 0 (block_words words) (tiling pool r)) r ≡ (true, runner_with until sizes others given)
allocates until sizes pools others blocks given pool words place object takes gives = by_pool (slice_get pools pool) refl takes where
  by_pool : (found : Option Held) → slice_get pools pool ≡ found → TakesIn pool words object.0 pools found (Some place) others
      → allocated pool (Names object) (fit 0 (block_words words) (tiling pool (runner_with until sizes pools blocks))) (runner_with until sizes pools blocks) ≡ (true, runner_with until sizes others given)
  by_pool None there takes = absurd takes
  by_pool (Some old) there takes =
      let new = takes.0 in
      let found : fit 0 (block_words words) (tiling pool (runner_with until sizes pools blocks)) ≡ Some (place, new.tiles) = ap (fit 0 (block_words words)) (tiling_here pools pool old there) ∙ takes.1.0 in
      let blocks_are : blocks_in others given ≡ updated (blocks_in pools blocks) object.0 (Some (record { pool = pool; place = place })) =
      ap (λ (hs : List Held). blocks_in hs given) takes.2 ∙ blocks_taken pools pool place object.0 old new blocks given there takes.1.1 takes.1.2 gives in
      let tilings_are : map tiles_of others ≡ slice_set (map tiles_of pools) pool new.tiles = ap (map tiles_of) takes.2 ∙ map-set tiles_of pools pool new in
      rw (found, blocks_are, tilings_are) refl

-- or the pool has no room
pub refuses : (until : ℕ) (sizes : List ℕ) (pools others : List Held) (blocks : ℕ → Option Block) (pool words : ℕ) (object : Id)
    → TakesIn pool words object.0 pools (slice_get pools pool) None others
    → let r = runner_with until sizes pools blocks in
    allocated pool (Names object) (fit 0 (block_words words) (tiling pool r)) r ≡ (false, runner_with until sizes others blocks)
refuses until sizes pools others blocks pool words object takes = by_pool (slice_get pools pool) refl takes where
  by_pool : (found : Option Held) → slice_get pools pool ≡ found → TakesIn pool words object.0 pools found None others
      → allocated pool (Names object) (fit 0 (block_words words) (tiling pool (runner_with until sizes pools blocks))) (runner_with until sizes pools blocks) ≡ (false, runner_with until sizes others blocks)
  by_pool None there same =
      let found : fit 0 (block_words words) (tiling pool (runner_with until sizes pools blocks)) ≡ None = ap (fit 0 (block_words words)) (tiling_none pools pool there) in
      rw (found, same) refl
  by_pool (Some old) there takes =
      let found : fit 0 (block_words words) (tiling pool (runner_with until sizes pools blocks)) ≡ None = ap (fit 0 (block_words words)) (tiling_here pools pool old there) ∙ takes.1.0 in
      let same : others ≡ pools = takes.2 ∙ ap (λ (h : Held). slice_set pools pool h) takes.1.1 ∙ set_same pools pool old there in
      rw (found, same) refl

-- an object's block goes back
pub gives_back : (until : ℕ) (sizes : List ℕ) (pools : List Held) (blocks left : ℕ → Option Block) (object : Id)
    → left ≡ updated blocks object.0 None
    → let r = runner_with until sizes pools blocks in
    runner_with until sizes (all_put_back object.0 (blocks object.0) pools) left ≡ given_back (Names object) (r.blocks object.0) r
gives_back until sizes pools blocks left object leaves = by_block (blocks object.0) refl where
  drops : (given : Option Block) → blocks object.0 ≡ given → still pools object.0 given ≡ None
      → runner_with until sizes pools left ≡ runner_with until sizes pools blocks
  drops given is lost = ap (λ (f : ℕ → Option Block). record { until = until; sizes = sizes; tilings = map tiles_of pools; blocks = f }) (blocks_dropped pools object.0 blocks left leaves (ap (still pools object.0) is ∙ lost))

  by_owner : (b : Block) (old : Held) → blocks object.0 ≡ Some b → slice_get pools b.pool ≡ Some old → (owner : Option ℕ) → entries_of old.objects b.place ≡ owner
      → (mine : Bool) → is_of object.0 owner ≡ mine
      → runner_with until sizes (slice_set pools b.pool (if mine then record { tiles = put_back b.place old.tiles; objects = slice_set old.objects b.place None } else old)) left
      ≡ given_back (Names object) (if mine then Some b else None) (runner_with until sizes pools blocks)
  by_owner b old given there owner entry false is =
      rw (set_same pools b.pool old there)
      (drops (Some b) given
      (ap (λ (h : Option Held). if is_of object.0 (object_of h b.place) then Some b else None) there ∙ ap (λ (mine : Bool). if mine then Some b else None) (ap (is_of object.0) entry ∙ is)))
  by_owner b old given there None entry true is = absurd (cc is)
  by_owner b old given there (Some name) entry true is =
      let owned : entries_of old.objects b.place ≡ Some object.0 = entry ∙ ap Some (eqb-true name object.0 is) in
      let blocks_are : blocks_in (slice_set pools b.pool (record { tiles = put_back b.place old.tiles; objects = slice_set old.objects b.place None })) left ≡ updated (blocks_in pools blocks) object.0 None =
      blocks_put_back pools b.pool b.place object.0 old (record { tiles = put_back b.place old.tiles; objects = slice_set old.objects b.place None }) blocks left there owned
      (set_one old.objects b.place None (within old.objects b.place object.0 owned)) leaves in
      let tilings_are : map tiles_of (slice_set pools b.pool (record { tiles = put_back b.place old.tiles; objects = slice_set old.objects b.place None })) ≡ slice_set (map tiles_of pools) b.pool (put_back b.place old.tiles) =
      map-set tiles_of pools b.pool (record { tiles = put_back b.place old.tiles; objects = slice_set old.objects b.place None }) in
      rw (blocks_are, tilings_are, tiling_here pools b.pool old there) refl

  by_pool : (b : Block) → blocks object.0 ≡ Some b → (found : Option Held) → slice_get pools b.pool ≡ found
      → runner_with until sizes (changed_pool (put_back_of object.0 b.place) b.pool found pools) left
      ≡ given_back (Names object) (if is_of object.0 (object_of found b.place) then Some b else None) (runner_with until sizes pools blocks)
  by_pool b given None there = drops (Some b) given (ap (λ (h : Option Held). if is_of object.0 (object_of h b.place) then Some b else None) there)
  by_pool b given (Some old) there = by_owner b old given there (entries_of old.objects b.place) refl (is_of object.0 (entries_of old.objects b.place)) refl

  by_block : (given : Option Block) → blocks object.0 ≡ given
      → runner_with until sizes (all_put_back object.0 given pools) left ≡ given_back (Names object) (still pools object.0 given) (runner_with until sizes pools blocks)
  by_block None e = drops None e refl
  by_block (Some b) e = by_pool b e (slice_get pools b.pool) refl

-- a declared pool begins
pub begins_one : (until : ℕ) (sizes : List ℕ) (pools : List Held) (blocks : ℕ → Option Block) (declaration : ℕ)
    → runner_with until sizes (pools ++ new_pool (slice_index_or sizes declaration 0) ∷ []) blocks ≡ begun declaration (runner_with until sizes pools blocks)
begins_one until sizes pools blocks declaration =
    rw (blocks_begun pools (slice_index_or sizes declaration 0) blocks, map-append tiles_of pools (new_pool (slice_index_or sizes declaration 0) ∷ [])) refl

-- the newest pool is gone
pub ends_one : (until : ℕ) (sizes : List ℕ) (pools : List Held) (blocks : ℕ → Option Block) (pool : ℕ)
    → runner_with until sizes (take pool pools) blocks ≡ gone pool (runner_with until sizes pools blocks)
ends_one until sizes pools blocks pool = rw (blocks_left pools pool blocks, sym (take-map tiles_of pool pools)) refl
