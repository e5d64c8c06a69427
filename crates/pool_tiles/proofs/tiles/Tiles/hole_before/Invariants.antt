use Rattle.std.proofs.Common.{◌≡◌, ℕ, List, ◌∷◌, ◌++◌}
use Rattle.pool_tiles.specs.Tiling.{Tile, block}
use Rattle.pool_tiles.proofs.Searching.{WalkedBack, WalkedOn}
use Rattle.pool_tiles.proofs.tiles.Tiles.hole_before.Given as goal

abbrev pub invariant-loop-next : goal.invariant-loop-next
invariant-loop-next l =
    (a b : List Tile) (n owner : ℕ) → l.self.tiles ≡ a ++ block l.place n owner ∷ b → WalkedBack a l.at × WalkedOn l.self-inside.words a b l.hole l.next

abbrev pub decreases-loop-next : goal.decreases-loop-next
decreases-loop-next l = l.at
