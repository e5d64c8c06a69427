-- The pools that exist stay sound, and what changes in one of them is told.

use Rattle.std.proofs.Common.{◌≡◌, ◌≢◌, ℕ, zero, suc, ◌<◌, ◌≤◌, ◌^◌, inl, inr, true, List, [], ◌∷◌, length, refl, sym, ap, ◌∙◌, subst, arith, Option, Some, None, Result, Ok, Err}
use Rattle.std.specs.Prelude.{nat_eq}
use Rattle.std.specs.Option.{option_eq}
use Rattle.std.specs.List.{slice_set}
use Rattle.std.proofs.lemmas.Bool.{eqb-true}
use Rattle.std.proofs.lemmas.Bool.Decides.{eqb_tells}
use Rattle.pool_tiles.specs.Tiling.{Tile, fit, put_back, block_length, block_words, IsTaken, new_tiling}
use Rattle.pool_tiles.specs.Headers.{total}
use Rattle.pool_tiles.specs.Kept.{KeepsBlocks}
use Rattle.pool_kinds.specs.Kinds.{or_full}
use Rattle.pool_kinds.specs.declared.kinds.Refused.{Refused}
use Rattle.ada_pools.specs.Entries.{entries_of, updated}
use Rattle.ada_pools.specs.Held.{IsSound}
use Rattle.ada_pools.proofs.Tables.{updated_here, updated_else, set_one}
use Rattle.ada_pools.proofs.Totals.{total-fit, total-put_back, fit-beyond, total-new}

-- a taken block is the same length
still_taken : (old new : List Tile) (place : ℕ) → block_length new place ≡ block_length old place → IsTaken old place → IsTaken new place
still_taken old new place same taken = omega (arith, same, taken)

-- a new pool is sound
pub new_sound : (words : ℕ) → words < 2 ^ 32 → IsSound (new_tiling words) []
new_sound words few = record { taken = λ place object e. absurd (cc e); few = let most = total-new words in omega (arith, most) }

-- no pool has room for more words than it may have
pub no_room : (tiles : List Tile) (objects : List (Option ℕ)) (words : ℕ) → IsSound tiles objects → 2 ^ 32 ≤ words → fit 0 (block_words words) tiles ≡ None
no_room tiles objects words sound many = let few = sound.few in fit-beyond 0 (block_words words) tiles (omega arith)

-- a block is taken, and its object is not noted
pub cut_sound : (old new : List Tile) (objects : List (Option ℕ)) (words place : ℕ) → fit 0 (block_words words) old ≡ Some (place, new)
    → KeepsBlocks (λ other. Unit {0}) old new → IsSound old objects → IsSound new objects
cut_sound old new objects words place fits stay sound = record {
  taken = λ at object here. still_taken old new at (stay at (sound.taken at object here) tt).0 (sound.taken at object here);
  few = let same = total-fit 0 (block_words words) old (place, new) fits in let few = sound.few in omega arith;
}

-- the objects of a list are as those of another
pub same_sound : (tiles : List Tile) (old new : List (Option ℕ)) → entries_of new ≡ entries_of old → IsSound tiles old → IsSound tiles new
same_sound tiles old new same sound = record {
  taken = λ at object here. sound.taken at object (sym (ap (λ (f : ℕ → Option ℕ). f at) same) ∙ here);
  few = sound.few;
}

-- the object of a block is noted
pub noted_sound : (tiles : List Tile) (old new : List (Option ℕ)) (place object : ℕ) → entries_of new ≡ updated (entries_of old) place (Some object)
    → IsTaken tiles place → IsSound tiles old → IsSound tiles new
noted_sound tiles old new place object noted taken sound = record { taken = all_taken; few = sound.few } where
  all_taken : (at other : ℕ) → entries_of new at ≡ Some other → IsTaken tiles at
  all_taken at other here = elim (eqb_tells at place) [
    | inl same ↦ subst (IsTaken tiles) (sym same.1) taken
    | inr away ↦ sound.taken at other (sym (updated_else (entries_of old) place (Some object) at away.1) ∙ sym (ap (λ (f : ℕ → Option ℕ). f at) noted) ∙ here)
  ]

-- where a block is taken no object had one
pub was_free : (old : List Tile) (objects : List (Option ℕ)) (place : ℕ) → block_length old place ≡ 0 → IsSound old objects → entries_of objects place ≡ None
was_free old objects place free sound = by_entry (entries_of objects place) refl where
  by_entry : (e : Option ℕ) → entries_of objects place ≡ e → e ≡ None
  by_entry None is = refl
  by_entry (Some object) is = let taken = sound.taken place object is in absurd (omega (arith, taken, free))

-- what has an entry is in the list
pub within : (objects : List (Option ℕ)) (place object : ℕ) → entries_of objects place ≡ Some object → place < length objects
within [] place object is = absurd (cc is)
within (o ∷ objects) zero object is = omega arith
within (o ∷ objects) (suc place) object is = let rest = within objects place object is in omega (arith, rest)

-- what is equal to an object is that object
pub owned : (entry : Option ℕ) (object : ℕ) → option_eq nat_eq entry (Some object) ≡ true → entry ≡ Some object
owned None object e = absurd (cc e)
owned (Some other) object e = ap Some (eqb-true other object e)

-- the block of an object is put back
pub put_back_sound : (old new : List Tile) (objects : List (Option ℕ)) (place : ℕ) → new ≡ put_back place old → KeepsBlocks (λ other. other ≢ place) old new
    → (object : ℕ) → entries_of objects place ≡ Some object → IsSound old objects → IsSound new (slice_set objects place None)
put_back_sound old new objects place back stay owner is sound = record {
  taken = all_taken;
  few = let same : total new ≡ total old = ap total back ∙ total-put_back place old in let few = sound.few in omega arith;
} where
  entry_is : (at : ℕ) → entries_of (slice_set objects place None) at ≡ updated (entries_of objects) place None at
  entry_is at = ap (λ (f : ℕ → Option ℕ). f at) (set_one objects place None (within objects place owner is))

  all_taken : (at other : ℕ) → entries_of (slice_set objects place None) at ≡ Some other → IsTaken new at
  all_taken at other here = elim (eqb_tells at place) [
    | inl same ↦
        let e : None ≡ Some other = sym (updated_here (entries_of objects) place None) ∙ ap (updated (entries_of objects) place None) (sym same.1) ∙ sym (entry_is at) ∙ here in
        absurd (cc e)
    | inr away ↦
        let was = sound.taken at other (sym (updated_else (entries_of objects) place None at away.1) ∙ sym (entry_is at) ∙ here) in
        still_taken old new at (stay at was away.1).0 was
  ]

-- a request that is granted is granted by the first fit
pub fits_from : (found : Option (ℕ × List Tile)) (here : ℕ × List Tile) → or_full found ≡ Ok here → found ≡ Some here
fits_from None here e = absurd (cc e)
fits_from (Some there) here e = ap Some (ap (granted_or there) e) where
  granted_or : ℕ × List Tile → Result (ℕ × List Tile) Refused → ℕ × List Tile
  granted_or d (Ok found) = found
  granted_or d (Err why) = d
