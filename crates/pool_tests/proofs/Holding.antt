-- What a taken and a returned block make of the blocks that are held.
use Rattle.std.proofs.Common.{◌≡◌, ◌≢◌, ℕ, zero, suc, ◌+◌, ◌≤◌, ◌<◌, List, [], ◌∷◌, ◌++◌, length, remove, get_or, sym, subst, arith}
use Rattle.pool_tiles.specs.Tiling.{Tile, block_length}
use Rattle.pool_tiles.specs.Kept.{KeepsBlocks}
use Rattle.pool_tests.specs.declared.mixed.Held.{Held}
use Rattle.pool_tests.specs.Held.{NoneAt, Holds}

-- what is held stays where no other block changes
pub holds_kept : (ts us : List Tile) (p : ℕ) (hs : List Held) → NoneAt p hs → KeepsBlocks (λ q. q ≢ p) ts us → Holds ts hs → Holds us hs
holds_kept ts us p [] none kept all = tt
holds_kept ts us p (h ∷ hs) none kept all =
    let same = (kept h.place.0 (omega (arith, all.0)) (λ e. none.0 (sym e))).0 in
    (omega (arith, all.0, same), all.1, holds_kept ts us p hs none.1 kept all.2)

-- a place where no block was is none of them
pub none_at_fresh : (ts : List Tile) (p : ℕ) (hs : List Held) → block_length ts p ≡ 0 → Holds ts hs → NoneAt p hs
none_at_fresh ts p [] fresh all = tt
none_at_fresh ts p (h ∷ hs) fresh all =
    let other : p ≢ h.place.0 = λ e. let here = subst (λ (q : ℕ). block_length ts q ≡ 0) e fresh in absurd (omega (arith, all.0, here)) in
    (other, none_at_fresh ts p hs fresh all.2)

none_pushed : (p : ℕ) (hs : List Held) (h : Held) → NoneAt p hs → p ≢ h.place.0 → NoneAt p (hs ++ h ∷ [])
none_pushed p [] h none other = (other, tt)
none_pushed p (g ∷ hs) h none other = (none.0, none_pushed p hs h none.1 other)

pub holds_pushed : (us : List Tile) (hs : List Held) (h : Held) → NoneAt h.place.0 hs
    → h.words + 4 ≤ block_length us h.place.0 → Holds us hs → Holds us (hs ++ h ∷ [])
holds_pushed us [] h none room all = (room, tt, tt)
holds_pushed us (g ∷ hs) h none room all =
    (all.0, none_pushed g.place.0 hs h all.1 (λ e. none.0 (sym e)), holds_pushed us hs h none.1 room all.2)

none_removed : (p : ℕ) (hs : List Held) (i : ℕ) → i < length hs → NoneAt p hs → NoneAt p (remove hs i)
none_removed p [] i within none = absurd (omega (arith, within))
none_removed p (h ∷ hs) zero within none = none.1
none_removed p (h ∷ hs) (suc i) within none = (none.0, none_removed p hs i (omega (arith, within)) none.1)

pub holds_removed : (ts : List Tile) (hs : List Held) (i : ℕ) → i < length hs → Holds ts hs → Holds ts (remove hs i)
holds_removed ts [] i within all = absurd (omega (arith, within))
holds_removed ts (h ∷ hs) zero within all = all.2
holds_removed ts (h ∷ hs) (suc i) within all =
    (all.0, none_removed h.place.0 hs i (omega (arith, within)) all.1, holds_removed ts hs i (omega (arith, within)) all.2)

not_at : (p : ℕ) (hs : List Held) (i : ℕ) (d : Held) → i < length hs → NoneAt p hs → p ≢ (get_or hs i d).place.0
not_at p [] i d within none = absurd (omega (arith, within))
not_at p (h ∷ hs) zero d within none = none.0
not_at p (h ∷ hs) (suc i) d within none = not_at p hs i d (omega (arith, within)) none.1

-- the one that is taken out is none of the others
pub none_at_removed : (ts : List Tile) (hs : List Held) (i : ℕ) (d : Held) → i < length hs → Holds ts hs → NoneAt (get_or hs i d).place.0 (remove hs i)
none_at_removed ts [] i d within all = absurd (omega (arith, within))
none_at_removed ts (h ∷ hs) zero d within all = all.1
none_at_removed ts (h ∷ hs) (suc i) d within all =
    ((λ e. not_at h.place.0 hs i d (omega (arith, within)) all.1 (sym e)), none_at_removed ts hs i d (omega (arith, within)) all.2)

-- it has room for its object
pub held_room : (ts : List Tile) (hs : List Held) (i : ℕ) (d : Held) → i < length hs → Holds ts hs
    → (get_or hs i d).words + 4 ≤ block_length ts (get_or hs i d).place.0
held_room ts [] i d within all = absurd (omega (arith, within))
held_room ts (h ∷ hs) zero d within all = all.0
held_room ts (h ∷ hs) (suc i) d within all = held_room ts hs i d (omega (arith, within)) all.2

-- One is taken out of what is held: it has room for its object, and it is none of the others.
pub taken_out : (ts : List Tile) (hs : List Held) (i : ℕ) (x : Held) → i < length hs → x ≡ get_or hs i x → Holds ts hs
    → (x.words + 4 ≤ block_length ts x.place.0) × NoneAt x.place.0 (remove hs i) × Holds ts (remove hs i)
taken_out ts hs i x within is all =
    subst (λ (y : Held). (y.words + 4 ≤ block_length ts y.place.0) × NoneAt y.place.0 (remove hs i) × Holds ts (remove hs i)) (sym is)
    (held_room ts hs i x within all, none_at_removed ts hs i x within all, holds_removed ts hs i within all)

-- One is added, at a place where no block was.
pub added : (ts us : List Tile) (hs : List Held) (h : Held) → Holds ts hs → block_length ts h.place.0 ≡ 0 → h.words + 4 ≤ block_length us h.place.0
    → KeepsBlocks (λ _. Unit {0}) ts us → Holds us hs × Holds us (hs ++ h ∷ [])
added ts us hs h all fresh room kept =
    let none = none_at_fresh ts h.place.0 hs fresh all in
    let stay = holds_kept ts us h.place.0 hs none (λ q t _. kept q t tt) all in
    (stay, holds_pushed us hs h none room stay)
