-- No objects of outer masters have a component of an access type whose collection is an item of the innermost one (3.10.2): what their components name lies in collections
-- that outer masters have opened, and no type is opened twice.

use Rattle.std.proofs.Common.{◌≡◌, ℕ, ◌≤◌, Bool, true, List, [], ◌∷◌, ◌++◌, Option, Some, None, arith, refl, sym, ap, ◌∙◌, subst}
use Rattle.std.specs.List.{slice_get}
use Rattle.ada_program.specs.declared.program.ComponentKind.{ComponentKind}
use Rattle.ada_program.specs.declared.program.ComponentKind.TheVariants as component
use Rattle.ada_program.specs.declared.program.TypeNo.{TypeNo}
use Rattle.ada_program.specs.declared.program.VariableKind.TheVariants as variable
use Rattle.ada_program.specs.Nested.{Callees, are_open, callees_of}
use Rattle.ada_program.specs.ProgramForm.{TypeForm, ProgramForm}
use Rattle.ada_program.specs.WellFormed.{access_of, component_kind, kind_among, reached_components}
use Rattle.ada_meaning.specs.State.{Owned, declared, collection, record_object, storage_pool, Item, Master}
use Rattle.ada_meaning.specs.Law.{items_of}
use Rattle.ada_meaning.specs.Named.{Object, State}
use Rattle.ada_scopes.proofs.Control.{AreOpen, Begins, Covers, Nested, NeedsOpen, RecordNeeds, RecordsNeed, RecordsOpen, Whole, standing, beginning, parting, resting}
use Rattle.ada_scopes.proofs.Counts.{Scopes, all_of, opened, opened_by, scopes, target_open, times, times_append}
use Rattle.ada_scopes.proofs.Homes.{opened_here, opened_later}
use Rattle.ada_scopes.proofs.Runs.{Scoped, calls_in}
use Rattle.ada_sound.proofs.Items.{Houses}
use Rattle.ada_sound.proofs.Leavings.{HoldNone}

-- What a component is to name, if it holds values of an access type.
abbrev pub IsTarget : (kind : Option ComponentKind) → (t : ℕ) → Type 0
IsTarget kind t = (target : TypeNo) × (component_kind kind ≡ Some (variable.Access target)) × (target.0 ≡ t)

target_of : (kind : Option ComponentKind) (t : ℕ) → access_of (component_kind kind) ≡ Some t → IsTarget kind t
target_of None t is = absurd (cc is)
target_of (Some (component.Integer initial)) t is = absurd (cc is)
target_of (Some (component.Boolean initial)) t is = absurd (cc is)
target_of (Some (component.Access target)) t is = (target, refl, cc is)

-- So the collection of that type is open, where those are of what the components name.
open_there : (there : List ℕ) (components : Option (List ComponentKind)) (c t : ℕ) → access_of (kind_among components c) ≡ Some t → are_open there components ≡ true → 1 ≤ times t there
open_there there None c t is opens = absurd (cc is)
open_there there (Some components) c t is opens =
    let target = target_of (slice_get components c) t is in
    subst (λ (u : ℕ). 1 ≤ times u there) target.2 (target_open there (Some components) c target.0 target.1 opens)

-- Those are open of what the components of an item's objects name.
owned_opens : (types : List TypeForm) (there us : List ℕ) (owned : Owned) (v : ℕ) (pool : Option ℕ) → Houses owned v pool → NeedsOpen types (opened_by owned us) there
    → RecordNeeds types there owned → are_open there (reached_components types v) ≡ true
owned_opens types there us (declared x) v pool houses needs records = absurd houses
owned_opens types there us (storage_pool declaration number) v pool houses needs records = absurd houses
owned_opens types there us (collection t own) v pool houses needs records =
    needs v (opened_here (collection t own) v own us (ap (λ (u : ℕ). collection u own) houses.0))
owned_opens types there us (record_object t) v pool houses needs records =
    subst (λ (u : ℕ). are_open there (reached_components types u) ≡ true) houses.0 records

-- So the objects of these items have no component of a type whose collection is not open.
items_hold_none : (types : List TypeForm) (t : ℕ) (there : List ℕ) → times t there ≡ 0 → (is : List Item) → NeedsOpen types (opened is) there → RecordsNeed types there is → HoldNone types t is
items_hold_none types t there none [] needs records = tt
items_hold_none types t there none (i ∷ is) needs records = (
  (λ v pool houses c named.
      let opens = owned_opens types there (opened is) i.owned v pool houses needs records.0 in
      let some = open_there there (reached_components types v) c t named opens in
      omega (arith, none, some)),
  items_hold_none types t there none is (λ u le. needs u (opened_later i.owned u (opened is) le)) records.1,
)

hold_none_both : (types : List TypeForm) (t : ℕ) (is js : List Item) → HoldNone types t is → HoldNone types t js → HoldNone types t (is ++ js)
hold_none_both types t [] js first later = later
hold_none_both types t (i ∷ is) js first later = (first.0, hold_none_both types t is js first.1 later)

-- So it is with those of these masters.
masters_hold_none : (types : List TypeForm) (t : ℕ) (ss : Scopes) (ms : List Master) → times t (all_of ss) ≡ 0 → Covers ss (scopes ms) → AreOpen types ss → RecordsOpen types ss ms
    → HoldNone types t (items_of ms)
masters_hold_none types t ss [] none covers opens records = tt
masters_hold_none types t [] (m ∷ ms) none covers opens records = absurd covers
masters_hold_none types t (us ∷ ss) (m ∷ ms) none covers opens records =
    let sum = times_append t us (all_of ss) in
    hold_none_both types t m.items (items_of ms)
    (items_hold_none types t (us ++ all_of ss) none m.items (λ u le. opens.0 u (let fewer = covers.0 u in omega (arith, le, fewer))) records.0)
    (masters_hold_none types t ss ms (omega (arith, none, sum)) covers.1 opens.1 records.1)

-- A type whose collection the innermost master has is open in no outer one.
whole_outside : (types : List TypeForm) (heap : List Object) (t : ℕ) (ss : Scopes) (m : Master) (outer : List Master) → 1 ≤ times t (opened m.items) → Whole types ss (m ∷ outer) heap
    → HoldNone types t (items_of outer)
whole_outside types heap t [] m outer some w = absurd w.covers
whole_outside types heap t (us ∷ ss) m outer some w =
    let sum = times_append t us (all_of ss) in
    let once = w.lone t in
    let fewer = w.covers.0 t in
    masters_hold_none types t ss outer (omega (arith, some, sum, once, fewer)) w.covers.1 w.needs.1 w.records.1

begun_outside : (types : List TypeForm) (callees : Callees) (main : Option (List ℕ)) (calling : Bool) (s : State) (b : Begins types callees main calling s) (t : ℕ) → 1 ≤ times t (opened b.m.items)
    → HoldNone types t (items_of b.rest)
begun_outside types callees main calling s b t some =
    let once = b.growing.once t in
    let all = b.growing.all t in
    masters_hold_none types t b.ss b.rest (omega (arith, some, once, all)) b.growing.covers b.growing.outer b.growing.records

pub none_outside : (p : ProgramForm) (s : State) → Scoped p s → (m : Master) (outer : List Master) → s.masters ≡ m ∷ outer → (t : ℕ) → 1 ≤ times t (opened m.items) → HoldNone p.types t (items_of outer)
none_outside p s scoped m outer masters t some = by scoped.nested
  where
    whole : (ss : Scopes) → Whole p.types ss s.masters s.heap → HoldNone p.types t (items_of outer)
    whole ss w = whole_outside p.types s.heap t ss m outer some (subst (λ (ms : List Master). Whole p.types ss ms s.heap) masters w)

    by : Nested p.types (callees_of p) None (calls_in p) s → HoldNone p.types t (items_of outer)
    by (standing ss w n) = whole ss w
    by (beginning b) =
        let both : b.m ∷ b.rest ≡ m ∷ outer = sym b.masters ∙ masters in
        let own : m ≡ b.m = cc both in
        let rest : b.rest ≡ outer = cc both in
        subst (λ (ms : List Master). HoldNone p.types t (items_of ms)) rest
        (begun_outside p.types (callees_of p) None (calls_in p) s b t (subst (λ (n : Master). 1 ≤ times t (opened n.items)) own some))
    by (parting ss w runs goes) = whole ss w
    by (resting ss w none ends) = whole ss w

-- So it is with one whose newest collection is of that type.
pub newest_outside : (p : ProgramForm) (s : State) → Scoped p s → (number item access : ℕ) (pool : Option ℕ) (items : List Item) (outer : List Master)
    → s.masters ≡ record { number = number; items = record { number = item; owned = collection access pool } ∷ items } ∷ outer → HoldNone p.types access (items_of outer)
newest_outside p s scoped number item access pool items outer masters =
    none_outside p s scoped (record { number = number; items = record { number = item; owned = collection access pool } ∷ items }) outer masters access
    (opened_here (collection access pool) access pool (opened items) refl)
