-- The lists of what is to be finalized, by number.
use Rattle.std.specs.Prelude.{ℕ, List, [], ◌∷◌, ◌++◌, Option, Some, None, IsSome, length, slice_set, slice_index_or, nat_lt, if◌then◌else◌}
use Rattle.ada_final.specs.declared.item.Item.{Item}
use Rattle.ada_final.specs.Slot.{items_in}

-- the lists by number: each with its newest item first, and None at a number where no list is entered
abbrev pub Numbered : Type 0
Numbered = List (Option (List Item))

-- the list under a number, if one is entered there
abbrev pub list_at : Numbered → ℕ → Option (List Item)
list_at lists number = slice_index_or lists number None

-- a list is entered under this number
abbrev pub IsEntered : Numbered → ℕ → Type 0
IsEntered lists number = IsSome (list_at lists number)

-- the items of a list, newest first
abbrev pub items_of : Numbered → ℕ → List Item
items_of lists number = items_in (list_at lists number)

-- the lists, this one with these items and each other as it was
abbrev pub with_items : Numbered → ℕ → List Item → Numbered
with_items lists number items = slice_set lists number (Some items)

-- the lists with an empty one under this number, which is one of theirs or the next after them
abbrev pub with_new_list : Numbered → ℕ → Numbered
with_new_list lists number =
    if nat_lt number (length lists) then with_items lists number [] else lists ++ Some [] ∷ []

-- the lists without this one, each other as it was
abbrev pub without_list : Numbered → ℕ → Numbered
without_list lists number = slice_set lists number None
