-- Lists of items, newest first.
use Rattle.std.specs.Prelude.{◌≡◌, ◌≢◌, ◌<◌, ℕ, Bool, length, slice_index_or, List, [], ◌∷◌, nat_eq, if◌then◌else◌}
use Rattle.ada_final.specs.declared.item.Item.{Item}

-- whether two items are the same
abbrev pub is_same : Item → Item → Bool
is_same a b = nat_eq a.word b.word

-- the list without the newest item that is this one, or the whole list where there is none
abbrev pub without : Item → List Item → List Item
without item [] = []
without item (newest ∷ older) = if is_same newest item then older else newest ∷ without item older

-- this item stands at this place, and not after it
abbrev pub IsLastPlace : List Item → Item → ℕ → Type 0
IsLastPlace items item place = (place < length items) × (slice_index_or items place item ≡ item)
    × ((later : ℕ) → place < later → later < length items → slice_index_or items later item ≢ item)
