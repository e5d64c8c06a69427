-- What the values of the code stand for.

use Rattle.std.specs.Prelude.{◌≡◌, ℕ, Bool, false, ◌||◌, List, Result, OnOk}
use Rattle.std.specs.List.{list_any}
use Rattle.std.specs.declared.alloc.AllocError.{AllocError}
use Rattle.ada_deeds.specs.declared.deed.Callee.{Callee}
use Rattle.ada_deeds.specs.declared.deed.Deed.{Deed}
use Rattle.ada_deeds.specs.declared.deed.Deed.TheVariants as deed
use Rattle.ada_deeds.specs.declared.found.Found.{Found}
use Rattle.ada_deeds.specs.declared.search.Search.{Search}
use Rattle.ada_deeds.specs.declared.search.Search.TheVariants as search
use Rattle.ada_effects.specs.Found.{has_number}
use Rattle.ada_program.specs.declared.program.TypeNo.{TypeNo}

-- The deed that a search tells of, for each deed: the one exception that it seeks, or that deed, where it seeks all that are no exceptions.
abbrev pub sought : Search → Deed → Deed
sought (search.Exception e) d = deed.Raises e
sought search.Others (deed.Raises e) = deed.Allocates
sought search.Others (deed.Frees t) = deed.Frees t
sought search.Others (deed.Follows t) = deed.Follows t
sought search.Others deed.Allocates = deed.Allocates
sought search.Others deed.Calls = deed.Calls

-- Does what is found do a deed that is sought, itself: is the mark set, or are these the access types whose objects it frees, or whose values it follows?
abbrev pub does_itself : (mark : Bool) → (freed followed : List TypeNo) → Deed → Bool
does_itself mark freed followed (deed.Raises e) = mark
does_itself mark freed followed (deed.Frees t) = has_number freed t.0
does_itself mark freed followed (deed.Follows t) = has_number followed t.0
does_itself mark freed followed deed.Allocates = mark
does_itself mark freed followed deed.Calls = false

-- Does what is found do a deed, where this is known of what it calls?
unfoldable pub does_found : Found → Deed → (known : Callee → Bool) → Bool
does_found f d known = does_itself f.itself f.freed.items f.followed.items d || list_any known f.callees.items

-- What is found besides are calls, want of memory aside: they do any deed that is done by what they call.
abbrev pub Calls : {X : Type 0} → Result X AllocError → (before after : Found) → (done : (known : Callee → Bool) → Bool) → Type 0
Calls answer before after done = OnOk answer ((d : Deed) (known : Callee → Bool) → does_found after d known ≡ (does_found before d known || done known))

-- What is found besides, of the deeds that are sought, is what a form does, want of memory aside.
abbrev pub Finds : {X : Type 0} → Result X AllocError → Search → (before after : Found) → (done : Deed → (known : Callee → Bool) → Bool) → Type 0
Finds answer s before after done =
    OnOk answer ((d : Deed) (known : Callee → Bool) → does_found after (sought s d) known ≡ (does_found before (sought s d) known || done (sought s d) known))

-- These access types are listed besides, want of memory aside.
abbrev pub Lists : {X : Type 0} → Result X AllocError → (before after : List TypeNo) → (among : ℕ → Bool) → Type 0
Lists answer before after among = OnOk answer ((t : ℕ) → has_number after t ≡ (has_number before t || among t))
