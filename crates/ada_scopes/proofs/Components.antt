-- What nested states say of objects and their components.

use Rattle.std.proofs.Common.{◌≡◌, not, None, ℕ, zero, suc, ◌+◌, ◌≤◌, ◌<◌, ◌==◌, ◌||◌, Bool, true, false, if◌then◌else◌, List, [], ◌∷◌, ◌++◌, Option, Some, arith, refl, sym, ap, ◌∙◌, subst, ◌⊎◌, inl, inr}
use Rattle.std.proofs.lemmas.Bool.{eqb-true, eq-eqb}
use Rattle.std.specs.List.{slice_get, All, AllPairs, Contains}
use Rattle.std.proofs.lemmas.List.Elements.{All-nil, All-cons}
use Rattle.std.proofs.lemmas.List.Kept.{AllPairs-cons}
use Rattle.ada_program.specs.declared.program.ComponentKind.{ComponentKind}
use Rattle.ada_program.specs.declared.program.ComponentKind.TheVariants as component
use Rattle.ada_program.specs.declared.program.TypeNo.{TypeNo}
use Rattle.ada_program.specs.declared.program.VariableKind.TheVariants as variable
use Rattle.ada_program.specs.Form.{DeclarationForm}
use Rattle.ada_program.specs.ProgramForm.{TypeForm, ProgramForm, program_form}
use Rattle.ada_program.specs.WellFormed.{is_access, overrides_none, reached_components, held_kind, component_kind, kind_among}
use Rattle.ada_program.specs.Nested.{Callees, are_open, callees_of, collected}
use Rattle.ada_meaning.specs.declared.state.Id.{Id}
use Rattle.ada_meaning.specs.declared.state.Value.{Value}
use Rattle.ada_meaning.specs.declared.state.Value.TheVariants.{Names}
use Rattle.ada_meaning.specs.Heap.{Cell}
use Rattle.ada_meaning.specs.Frame.{Frame}
use Rattle.ada_meaning.specs.Frame as frame
use Rattle.ada_meaning.specs.State.{Owned, declared, collection, record_object, storage_pool, type_housed, pool_housed, Item, Master}
use Rattle.ada_meaning.specs.Step.{older}
use Rattle.ada_meaning.specs.Named.{Object, State, object_at}
use Rattle.ada_meaning.specs.Law.{Differ, items_of, Falls}
use Rattle.ada_typed.specs.Holding.{Cells, Designates, HasKind, HaveKinds, IsFilled, cells_of}
use Rattle.ada_typed.proofs.Evaluations.{cell_at}
use Rattle.ada_typed.proofs.Runs.{objects_have_their_kinds}
use Rattle.ada_order.proofs.Orders as orders
use Rattle.ada_scopes.specs.Scopes.{type_collected, CollectTwoTypes, TypesHaveOneCollection, is_number_of, lasting, IsOpenIn, departures, some_departure, departs, OnlyInnermostIsLeft, is_innermost, is_declared_object, AreObjectsFirst, ObjectsGoFirst, IsListed, ObjectsLieInCollections, HoldsNames, ComponentsAreOutlived, HeldOutside, NamesStayOutside, InnermostHeldInside, InnermostIsNotNamed}
use Rattle.ada_scopes.proofs.Counts.{one, times, times_append, target_open, opened_by, opened, Scopes, scopes, all_of, opened_all, scopes_older}
use Rattle.ada_scopes.proofs.Homes.{HasItem, has_split, HasHome, home_item, opened_here, opened_later, ItemsFit, fit_before, fit_after, has_opened, Housed, housed_after}
use Rattle.ada_scopes.proofs.Layers.{AllLayered, bare_layered, all_above, bare_below}
use Rattle.ada_scopes.proofs.Control.{OwnsAll, Nests, NestsOutside, Goes, NeedsOpen, AreOpen, RecordNeeds, RecordsNeed, RecordsOpen, Covers, covers_older, covers_fewer, Lone, lone_older, Whole, Growing, Begins, Nested, standing, beginning, parting, resting}
use Rattle.ada_scopes.proofs.Operations.{none_nests}
use Rattle.ada_scopes.proofs.Runs.{calls_in, Scoped, state_so, state_nested}

-- The masters whose collections have all been created: all, or the outer ones, where the innermost is creating its own. No object lies in those.
record Settled (types : List TypeForm) (s : State) : Type 0 where
  ss : Scopes
  own : List Master
  ms : List Master
  masters : s.masters ≡ own ++ ms
  whole : Whole types ss ms s.heap

outer_whole : (types : List TypeForm) (main : Option (List ℕ)) (ss : Scopes) (m : Master) (rest : List Master) (heap : List Object) (ds : List DeclarationForm) (there : List ℕ) → Growing types main ss m rest heap ds there → Whole types ss rest heap
outer_whole types main ss m rest heap ds there g = record {
  lone = λ t. let once = g.once t in let all = g.all t in omega (arith, once, all);
  needs = g.outer;
  housed = g.housed;
  fit = fit_after types m.items (items_of rest) g.fit;
  records = g.records;
  covers = g.covers;
  layered = g.layered;
  known = g.known;
}

settled : (types : List TypeForm) (callees : Callees) (main : Option (List ℕ)) (calling : Bool) (s : State) → Nested types callees main calling s → Settled types s
settled types callees main calling s (standing ss w n) = record { ss = ss; own = []; ms = s.masters; masters = refl; whole = w }
settled types callees main calling s (beginning b) =
    record { ss = b.ss; own = b.m ∷ []; ms = b.rest; masters = b.masters; whole = outer_whole types main b.ss b.m b.rest s.heap b.ds b.there b.growing }
settled types callees main calling s (parting ss w runs goes) = record { ss = ss; own = []; ms = s.masters; masters = refl; whole = w }
settled types callees main calling s (resting ss w none ends) = record { ss = ss; own = []; ms = s.masters; masters = refl; whole = w }

-- No access type is opened twice.
lone_covered : (ss : Scopes) (ms : List Master) → Covers ss (scopes ms) → Lone ss → Lone (scopes ms)
lone_covered ss ms covers lone t = let all = lone t in let fewer = covers_fewer t ss (scopes ms) covers in omega (arith, all, fewer)

lone_begun : (types : List TypeForm) (callees : Callees) (main : Option (List ℕ)) (calling : Bool) (s : State) (b : Begins types callees main calling s) → Lone (scopes (b.m ∷ b.rest))
lone_begun types callees main calling s b t =
    let once = b.growing.once t in
    let all = b.growing.all t in
    let fewer = covers_fewer t b.ss (scopes b.rest) b.growing.covers in
    let sum = times_append t (opened b.m.items) (all_of (scopes b.rest)) in
    omega (arith, once, all, fewer, sum)

lone_in : (types : List TypeForm) (callees : Callees) (main : Option (List ℕ)) (calling : Bool) (s : State) → Nested types callees main calling s → Lone (scopes s.masters)
lone_in types callees main calling s (standing ss w n) = lone_covered ss s.masters w.covers w.lone
lone_in types callees main calling s (beginning b) = subst (λ (ms : List Master). Lone (scopes ms)) (sym b.masters) (lone_begun types callees main calling s b)
lone_in types callees main calling s (parting ss w runs goes) = lone_covered ss s.masters w.covers w.lone
lone_in types callees main calling s (resting ss w none ends) = lone_covered ss s.masters w.covers w.lone

differ_by : (t : ℕ) (owned : Owned) (us : List ℕ) → times t (opened_by owned us) ≡ 0 → Differ (Some t) (type_collected owned)
differ_by t (declared x) us none = tt
differ_by t (record_object u) us none = tt
differ_by t (storage_pool declaration number) us none = tt
differ_by t (collection access pool) us none = λ same.
    let found : one (access == t) ≡ 1 = ap one (eq-eqb access t (sym same)) in
    omega (arith, none, found)

none_behind : (t : ℕ) (owned : Owned) (us : List ℕ) → times t (opened_by owned us) ≡ 0 → times t us ≡ 0
none_behind t (declared x) us none = none
none_behind t (record_object u) us none = none
none_behind t (storage_pool declaration number) us none = none
none_behind t (collection access pool) us none = omega (arith, none)

none_of_type : (t : ℕ) (is : List Item) → times t (opened is) ≡ 0 → All (λ j. Differ (Some t) (type_collected j.owned)) is
none_of_type t [] none = All-nil (λ (j : Item). Differ (Some t) (type_collected j.owned))
none_of_type t (i ∷ is) none =
    All-cons (λ (j : Item). Differ (Some t) (type_collected j.owned)) i is (differ_by t i.owned (opened is) none) (none_of_type t is (none_behind t i.owned (opened is) none))

newest_alone : (owned : Owned) (is : List Item) → ((t : ℕ) → times t (opened_by owned (opened is)) ≤ 1) → All (λ j. Differ (type_collected owned) (type_collected j.owned)) is
newest_alone (declared x) is lone = λ k d lt. tt
newest_alone (record_object u) is lone = λ k d lt. tt
newest_alone (storage_pool declaration number) is lone = λ k d lt. tt
newest_alone (collection access pool) is lone =
    let le = lone access in
    let found : one (access == access) ≡ 1 = ap one (eq-eqb access access refl) in
    none_of_type access is (omega (arith, le, found))

behind_alone : (owned : Owned) (us : List ℕ) → ((t : ℕ) → times t (opened_by owned us) ≤ 1) → (t : ℕ) → times t us ≤ 1
behind_alone (declared x) us lone t = lone t
behind_alone (record_object u) us lone t = lone t
behind_alone (storage_pool declaration number) us lone t = lone t
behind_alone (collection access pool) us lone t = let le = lone t in omega (arith, le)

two_types : (is : List Item) → ((t : ℕ) → times t (opened is) ≤ 1) → AllPairs CollectTwoTypes is
two_types [] lone = λ i j d lt short. absurd (omega (arith, short))
two_types (i ∷ is) lone = AllPairs-cons CollectTwoTypes i is (newest_alone i.owned is lone) (two_types is (behind_alone i.owned (opened is) lone))

-- So no two items of a state are collections of one access type.
pub collect_two : (p : ProgramForm) (s : State) → Scoped p s → AllPairs CollectTwoTypes (items_of s.masters)
collect_two p s scoped =
    let lone = lone_in p.types (callees_of p) None (calls_in p) s scoped.nested in
    two_types (items_of s.masters) (λ t. subst (λ (us : List ℕ). times t us ≤ 1) (sym (opened_all s.masters)) (lone t))

pub one_collection : TypesHaveOneCollection
one_collection program well nest operations input events last run = collect_two (program_form program) last (state_nested program well nest operations input events last run)

-- Collections are those of access types, and record objects are known by other types.
pub items_fit : (p : ProgramForm) (s : State) → Scoped p s → ItemsFit p.types (items_of s.masters)
items_fit p s scoped = by scoped.nested
  where
    by : Nested p.types (callees_of p) None (calls_in p) s → ItemsFit p.types (items_of s.masters)
    by (standing ss w n) = w.fit
    by (beginning b) = subst (λ (ms : List Master). ItemsFit p.types (items_of ms)) (sym b.masters) b.growing.fit
    by (parting ss w runs goes) = w.fit
    by (resting ss w none ends) = w.fit

-- Objects of a master lie above its collections: a part that begins has none yet.
layered_in : (types : List TypeForm) (callees : Callees) (main : Option (List ℕ)) (calling : Bool) (s : State) → Nested types callees main calling s → AllLayered s.masters
layered_in types callees main calling s (standing ss w n) = w.layered
layered_in types callees main calling s (beginning b) = subst (λ (ms : List Master). AllLayered ms) (sym b.masters) (bare_layered b.m.items b.growing.bare, b.growing.layered)
layered_in types callees main calling s (parting ss w runs goes) = w.layered
layered_in types callees main calling s (resting ss w none ends) = w.layered

pub objects_first : (p : ProgramForm) (s : State) → Scoped p s → AreObjectsFirst s
objects_first p s scoped = all_above s.masters (layered_in p.types (callees_of p) None (calls_in p) s scoped.nested)

-- Where the newest item of the innermost master is a collection or a pool, the master owns no object.
pub objects_gone : (p : ProgramForm) (s : State) (m : ℕ) (i : Item) (is : List Item) (ms : List Master) → Scoped p s → s.masters ≡ record { number = m; items = i ∷ is } ∷ ms → is_declared_object i.owned ≡ false → All (λ (j : Item). is_declared_object j.owned ≡ false) (i ∷ is)
objects_gone p s m i is ms scoped masters none =
    bare_below i is ((subst AllLayered masters (layered_in p.types (callees_of p) None (calls_in p) s scoped.nested)).0) none

pub objects_go_first : ObjectsGoFirst
objects_go_first program well nest operations input events last run = objects_first (program_form program) last (state_nested program well nest operations input events last run)

-- Each object in its collection has that as its home.
pub housed_in : (types : List TypeForm) (callees : Callees) (main : Option (List ℕ)) (calling : Bool) (s : State) → Nested types callees main calling s → Housed s.heap (items_of s.masters)
housed_in types callees main calling s (standing ss w n) = w.housed
housed_in types callees main calling s (beginning b) =
    subst (λ (ms : List Master). Housed s.heap (items_of ms)) (sym b.masters) (housed_after s.heap b.m.items (items_of b.rest) b.growing.housed)
housed_in types callees main calling s (parting ss w runs goes) = w.housed
housed_in types callees main calling s (resting ss w none ends) = w.housed

contains_home : (n access : ℕ) (pool : Option ℕ) (is : List Item) → HasHome n access pool is → (i : Item) × Contains is i × (i.number ≡ n) × (type_housed i.owned ≡ Some access) × (pool_housed i.owned ≡ pool)
contains_home n access pool [] h = absurd h
contains_home n access pool (i ∷ is) (inl e) = (i, (zero, omega arith, refl), e.0, e.1, e.2)
contains_home n access pool (i ∷ is) (inr h) =
    let j = contains_home n access pool is h in
    (j.0, (suc j.1.0, omega (arith, j.1.1), j.1.2), j.2, j.3, j.4)

pub in_collections : ObjectsLieInCollections
in_collections program well nest operations input events last run o object listed =
    contains_home object.cell.home.item object.cell.access object.cell.home.pool (items_of last.masters)
    (housed_in (program_form program).types (callees_of (program_form program)) None (calls_in (program_form program)) last (state_nested program well nest operations input events last run).nested o object listed.0 listed.1)

-- What is opened is the collection of an item.
abbrev HasOpened : ℕ → List Item → Type 0
HasOpened t is = (i : Item) × (pool : Option ℕ) × Contains is i × (i.owned ≡ collection t pool)

opened_item : (t : ℕ) (is : List Item) → 1 ≤ times t (opened is) → HasOpened t is
opened_item t [] le = absurd (omega (arith, le))
opened_item t (i ∷ is) le = opened_first t i is i.owned refl le (opened_item t is)
  where
    later : (x : ℕ) (j : Item) (js : List Item) → HasOpened x js → HasOpened x (j ∷ js)
    later x j js k = (k.0, k.1, (suc k.2.0, omega (arith, k.2.1), k.2.2), k.3)

    first_or_later : (x : ℕ) (j : Item) (js : List Item) (access : ℕ) (pool : Option ℕ) (b : Bool) → (access == x) ≡ b → j.owned ≡ collection access pool → 1 ≤ one b + times x (opened js) → (1 ≤ times x (opened js) → HasOpened x js) → HasOpened x (j ∷ js)
    first_or_later x j js access pool true same own more k = (j, pool, (zero, omega arith, refl), own ∙ ap (λ (u : ℕ). collection u pool) (eqb-true access x same))
    first_or_later x j js access pool false same own more k = later x j js (k (omega (arith, more)))

    opened_first : (x : ℕ) (j : Item) (js : List Item) (owned : Owned) → j.owned ≡ owned → 1 ≤ times x (opened_by owned (opened js)) → (1 ≤ times x (opened js) → HasOpened x js) → HasOpened x (j ∷ js)
    opened_first x j js (declared y) own more k = later x j js (k more)
    opened_first x j js (record_object y) own more k = later x j js (k more)
    opened_first x j js (storage_pool declaration number) own more k = later x j js (k more)
    opened_first x j js (collection access pool) own more k = first_or_later x j js access pool (access == x) refl own more k

open_in : (t : ℕ) (ms : List Master) → 1 ≤ times t (all_of (scopes ms)) → IsOpenIn ms t
open_in t ms le = opened_item t (items_of ms) (subst (λ (us : List ℕ). 1 ≤ times t us) (sym (opened_all ms)) le)

-- The masters that last as long as an item.
lasting_here : (n : ℕ) (m : Master) (ms : List Master) → is_number_of m.items n ≡ true → lasting n (m ∷ ms) ≡ m ∷ ms
lasting_here n m ms is = ap (λ b. if b then m ∷ ms else lasting n ms) is

lasting_behind : (n : ℕ) (m : Master) (ms : List Master) → is_number_of m.items n ≡ false → lasting n (m ∷ ms) ≡ lasting n ms
lasting_behind n m ms is = ap (λ b. if b then m ∷ ms else lasting n ms) is

fewer_by : (n t : ℕ) (m : Master) (ms : List Master) (b : Bool) → times t (all_of (scopes (lasting n ms))) ≤ times t (all_of (scopes ms)) → times t (all_of (scopes (if b then m ∷ ms else lasting n ms))) ≤ times t (all_of (scopes (m ∷ ms)))
fewer_by n t m ms true le = omega arith
fewer_by n t m ms false le = let sum = times_append t (opened m.items) (all_of (scopes ms)) in omega (arith, le, sum)

lasting_fewer : (n t : ℕ) (ms : List Master) → times t (all_of (scopes (lasting n ms))) ≤ times t (all_of (scopes ms))
lasting_fewer n t [] = omega arith
lasting_fewer n t (m ∷ ms) = fewer_by n t m ms (is_number_of m.items n) (lasting_fewer n t ms)

more_by : (n t : ℕ) (m : Master) (ms : List Master) (b : Bool) → 1 ≤ times t (all_of (scopes (lasting n ms))) → 1 ≤ times t (all_of (scopes (if b then m ∷ ms else lasting n ms)))
more_by n t m ms true le =
    let sum = times_append t (opened m.items) (all_of (scopes ms)) in
    let fewer = lasting_fewer n t ms in
    omega (arith, le, sum, fewer)
more_by n t m ms false le = le

lasting_more : (n t : ℕ) (m : Master) (ms : List Master) → 1 ≤ times t (all_of (scopes (lasting n ms))) → 1 ≤ times t (all_of (scopes (lasting n (m ∷ ms))))
lasting_more n t m ms le = more_by n t m ms (is_number_of m.items n) le

number_by : (b c : Bool) → c ≡ true → (b || c) ≡ true
number_by true c is = refl
number_by false c is = is

number_first : (b c d : Bool) → (c ≡ true → d ≡ true) → (b || c) ≡ true → (b || d) ≡ true
number_first true c d later is = refl
number_first false c d later is = later is

number_here : (b c : Bool) → b ≡ true → (b || c) ≡ true
number_here true c is = refl
number_here false c is = absurd (cc)

number_after : (n : ℕ) (is js : List Item) → is_number_of js n ≡ true → is_number_of (is ++ js) n ≡ true
number_after n [] js is = is
number_after n (i ∷ is) js there = number_by (i.number == n) (is_number_of (is ++ js) n) (number_after n is js there)

number_before : (n : ℕ) (is js : List Item) → is_number_of is n ≡ true → is_number_of (is ++ js) n ≡ true
number_before n [] js is = absurd (cc)
number_before n (i ∷ is) js here = number_first (i.number == n) (is_number_of is n) (is_number_of (is ++ js) n) (number_before n is js) here

pub has_number : (n access : ℕ) (is : List Item) → HasItem n access is → is_number_of is n ≡ true
has_number n access [] h = absurd h
has_number n access (i ∷ is) (inl e) = number_here (i.number == n) (is_number_of is n) (eq-eqb i.number n e.0)
has_number n access (i ∷ is) (inr h) = number_by (i.number == n) (is_number_of is n) (has_number n access is h)

-- An object in its collection has an item of its type.
pub at_item : (heap : List Object) (is : List Item) → Housed heap is → (o : Id) (x : Object) → IsListed heap o x → HasItem x.cell.home.item x.cell.access is
at_item heap is housed o x listed = home_item x.cell.home.item x.cell.access x.cell.home.pool is (housed o x listed.0 listed.1)

-- What the components of objects name lies in open collections, where such objects are housed.
item_opens_by : (types : List TypeForm) (there us : List ℕ) (owned : Owned) (access : ℕ) → type_housed owned ≡ Some access → NeedsOpen types (opened_by owned us) there → RecordNeeds types there owned → are_open there (reached_components types access) ≡ true
item_opens_by types there us (declared x) access same needs record_needs = absurd (cc)
item_opens_by types there us (storage_pool declaration number) access same needs record_needs = absurd (cc)
item_opens_by types there us (collection t pool) access same needs record_needs =
    let one_type : t ≡ access = cc in
    needs access (opened_here (collection t pool) access pool us (ap (λ (u : ℕ). collection u pool) one_type))
item_opens_by types there us (record_object t) access same needs record_needs =
    let one_type : t ≡ access = cc in
    subst (λ (u : ℕ). are_open there (reached_components types u) ≡ true) one_type record_needs

item_opens : (types : List TypeForm) (there : List ℕ) (n access : ℕ) (is : List Item) → NeedsOpen types (opened is) there → RecordsNeed types there is → HasItem n access is → are_open there (reached_components types access) ≡ true
item_opens types there n access [] needs records has = absurd has
item_opens types there n access (i ∷ is) needs records (inl e) = item_opens_by types there (opened is) i.owned access e.1 needs records.0
item_opens types there n access (i ∷ is) needs records (inr has) =
    item_opens types there n access is (λ t le. needs t (opened_later i.owned t (opened is) le)) records.1 has

-- What the masters have opened that last as long as an item.
abbrev last_opened : ℕ → List Master → Scopes → Scopes
last_opened n [] ss = []
last_opened n (m ∷ ms) [] = []
last_opened n (m ∷ ms) (us ∷ ss) = if is_number_of m.items n then us ∷ ss else last_opened n ms ss

last_here : (n : ℕ) (m : Master) (ms : List Master) (us : List ℕ) (ss : Scopes) → is_number_of m.items n ≡ true → last_opened n (m ∷ ms) (us ∷ ss) ≡ us ∷ ss
last_here n m ms us ss is = ap (λ b. if b then us ∷ ss else last_opened n ms ss) is

last_behind : (n : ℕ) (m : Master) (ms : List Master) (us : List ℕ) (ss : Scopes) → is_number_of m.items n ≡ false → last_opened n (m ∷ ms) (us ∷ ss) ≡ last_opened n ms ss
last_behind n m ms us ss is = ap (λ b. if b then us ∷ ss else last_opened n ms ss) is

last_fewer_by : (n t : ℕ) (ms : List Master) (us : List ℕ) (ss : Scopes) (b : Bool) → times t (all_of (last_opened n ms ss)) ≤ times t (all_of ss) → times t (all_of (if b then us ∷ ss else last_opened n ms ss)) ≤ times t (all_of (us ∷ ss))
last_fewer_by n t ms us ss true le = omega arith
last_fewer_by n t ms us ss false le = let sum = times_append t us (all_of ss) in omega (arith, le, sum)

last_fewer : (n t : ℕ) (ms : List Master) (ss : Scopes) → times t (all_of (last_opened n ms ss)) ≤ times t (all_of ss)
last_fewer n t [] ss = omega arith
last_fewer n t (m ∷ ms) [] = omega arith
last_fewer n t (m ∷ ms) (us ∷ ss) = last_fewer_by n t ms us ss (is_number_of m.items n) (last_fewer n t ms ss)

last_more_by : (n t : ℕ) (ms : List Master) (us : List ℕ) (ss : Scopes) (b : Bool) → 1 ≤ times t (all_of (last_opened n ms ss)) → 1 ≤ times t (all_of (if b then us ∷ ss else last_opened n ms ss))
last_more_by n t ms us ss true le = let sum = times_append t us (all_of ss) in let fewer = last_fewer n t ms ss in omega (arith, le, sum, fewer)
last_more_by n t ms us ss false le = le

-- What a component names lies in a collection that such a master has opened.
target_in : (types : List TypeForm) (n access c : ℕ) (target : TypeNo) (ss : Scopes) (ms : List Master) → Covers ss (scopes ms) → AreOpen types ss → RecordsOpen types ss ms → HoldsNames types access c target → HasItem n access (items_of ms) → 1 ≤ times target.0 (all_of (last_opened n ms ss))
target_in types n access c target ss [] covers opens records names has = absurd has
target_in types n access c target [] (m ∷ ms) covers opens records names has = absurd covers
target_in types n access c target (us ∷ ss) (m ∷ ms) covers opens records names has =
    elim (has_split n access m.items (items_of ms) has) [
      | inl own ↦ here own
      | inr outer ↦ last_more_by n target.0 ms us ss (is_number_of m.items n) (target_in types n access c target ss ms covers.1 opens.1 records.1 names outer)
    ]
  where
    here : HasItem n access m.items → 1 ≤ times target.0 (all_of (last_opened n (m ∷ ms) (us ∷ ss)))
    here own =
        let needs : NeedsOpen types (opened m.items) (us ++ all_of ss) = λ t le. opens.0 t (let fewer = covers.0 t in omega (arith, le, fewer)) in
        let needed = item_opens types (us ++ all_of ss) n access m.items needs records.0 own in
        subst (λ (xs : Scopes). 1 ≤ times target.0 (all_of xs)) (sym (last_here n m ms us ss (has_number n access m.items own)))
        (target_open (us ++ all_of ss) (reached_components types access) c target names needed)

-- What masters have opened is open, or one of them is being left.
abbrev OpenOrLeft : (t : ℕ) → (vs : Scopes) → (left : Bool) → Type 0
OpenOrLeft t vs left = (left ≡ true) ⊎ (1 ≤ times t (all_of vs))

nothing_opened : (t : ℕ) (ss vs : Scopes) → Covers ss vs → vs ≡ [] → 1 ≤ times t (all_of ss) → ⊥
nothing_opened t [] vs covers is le = omega (arith, le)
nothing_opened t (us ∷ ss) [] covers is le = covers
nothing_opened t (us ∷ ss) (ws ∷ vs) covers is le = cc is

owned_opened : (main : List ℕ) (t : ℕ) (ss vs : Scopes) (bs : List Bool) → OwnsAll (Some main) ss vs → (1 ≤ times t (all_of (older ss)) → OpenOrLeft t (older vs) (some_departure bs)) → 1 ≤ times t (all_of ss) → OpenOrLeft t vs (some_departure (false ∷ bs))
owned_opened main t [] vs bs owns later le = absurd owns
owned_opened main t (us ∷ ss) [] bs owns later le = absurd owns
owned_opened main t (us ∷ ss) (ws ∷ vs) bs owns later le = split (times t us) refl
  where
    behind_it : OpenOrLeft t vs (some_departure bs) → OpenOrLeft t (ws ∷ vs) (some_departure (false ∷ bs))
    behind_it (inl left) = inl left
    behind_it (inr more) = inr (let sum = times_append t ws (all_of vs) in omega (arith, sum, more))

    split : (n : ℕ) → times t us ≡ n → OpenOrLeft t (ws ∷ vs) (some_departure (false ∷ bs))
    split zero none = behind_it (later (let sum = times_append t us (all_of ss) in omega (arith, sum, none, le)))
    split (suc n) some = inr (let same = owns t in let sum = times_append t ws (all_of vs) in omega (arith, same, sum, some))

module _ (types : List TypeForm) (callees : Callees) (main : List ℕ) (calling : Bool) where
  -- So it is behind a master.
  outside_opened : (t : ℕ) (ss vs : Scopes) (k : List (Frame Value)) → Covers ss vs → (Nests types callees (Some main) calling (older ss) (older vs) k → OpenOrLeft t (older vs) (some_departure (departures k))) → NestsOutside types callees (Some main) calling (all_of ss) (older ss) (older vs) k → 1 ≤ times t (all_of (older ss)) → OpenOrLeft t (older vs) (some_departure (departures k))
  outside_opened t ss vs k covers opens (inl none) le = absurd (nothing_opened t (older ss) (older vs) (covers_older ss vs covers) none.1 le)
  outside_opened t ss vs k covers opens (inr nest) le = opens nest

  mutual
    nests_opened : (t : ℕ) (ss vs : Scopes) (k : List (Frame Value)) → Covers ss vs → Nests types callees (Some main) calling ss vs k → 1 ≤ times t (all_of ss) → OpenOrLeft t vs (some_departure (departures k))
    nests_opened t ss vs [] covers n le = absurd n
    nests_opened t ss vs (frame.Elaborates ds fs hs ∷ k) covers n le =
        owned_opened main t ss vs (departures k) n.0.2
        (λ more. outside_opened t ss vs k covers (λ nest. nests_opened t (older ss) (older vs) k (covers_older ss vs covers) nest more) n.1 more) le
    nests_opened t ss vs (frame.Closes ∷ k) covers n le =
        owned_opened main t ss vs (departures k) n.0
        (λ more. outside_opened t ss vs k covers (λ nest. nests_opened t (older ss) (older vs) k (covers_older ss vs covers) nest more) n.1 more) le
    nests_opened t ss vs (frame.Leaves mode ∷ k) covers n le = absurd n.0
    nests_opened t ss vs (frame.Confines ∷ k) covers (x, inl n) le = nests_opened t ss vs k covers n le
    nests_opened t ss vs (frame.Confines ∷ k) covers (x, inr goes) le = goes_opened t ss vs k covers goes le
    nests_opened t ss vs (f ∷ k) covers n le = nests_opened t ss vs k covers n.1 le

    goes_opened : (t : ℕ) (ss vs : Scopes) (k : List (Frame Value)) → Covers ss vs → Goes types callees (Some main) calling ss vs k → 1 ≤ times t (all_of ss) → OpenOrLeft t vs (some_departure (departures k))
    goes_opened t ss vs [] covers goes le = absurd goes
    goes_opened t ss vs (frame.Leaves mode ∷ k) covers goes le = inl refl
    goes_opened t ss vs (frame.Treats v (frame.begins by done) tasks ∷ k) covers goes le = absurd goes
    goes_opened t ss vs (frame.Treats v (frame.ends cause) tasks ∷ k) covers goes le = goes_opened t ss vs k covers goes le
    goes_opened t ss vs (frame.Ends v ∷ k) covers goes le = goes_opened t ss vs k covers goes le
    goes_opened t ss vs (frame.GivesBack v cause pool ∷ k) covers goes le = goes_opened t ss vs k covers goes le
    goes_opened t ss vs (f ∷ k) covers goes le = absurd goes

-- Where no operation is called, no master but the innermost one is being left.
module _ (types : List TypeForm) (callees : Callees) (main : Option (List ℕ)) where
  outside_left : (there : List ℕ) (ss vs : Scopes) (k : List (Frame Value)) → (Nests types callees main false ss vs k → some_departure (departures k) ≡ false) → NestsOutside types callees main false there ss vs k → some_departure (departures k) ≡ false
  outside_left there ss vs k none (inl ends) = ap (λ (k : List (Frame Value)). some_departure (departures k)) ends.0
  outside_left there ss vs k none (inr nest) = none nest

  none_left : (ss vs : Scopes) (k : List (Frame Value)) → Nests types callees main false ss vs k → some_departure (departures k) ≡ false
  none_left ss vs [] n = absurd n
  none_left ss vs (frame.Elaborates ds fs hs ∷ k) n = outside_left (all_of ss) (older ss) (older vs) k (λ nest. none_left (older ss) (older vs) k nest) n.1
  none_left ss vs (frame.Closes ∷ k) n = outside_left (all_of ss) (older ss) (older vs) k (λ nest. none_left (older ss) (older vs) k nest) n.1
  none_left ss vs (frame.Leaves mode ∷ k) n = absurd n.0
  none_left ss vs (frame.Confines ∷ k) n = absurd (cc n.0)
  none_left ss vs (f ∷ k) n = none_left ss vs k n.1

  one_left : (ss vs : Scopes) (k : List (Frame Value)) → Goes types callees main false ss vs k → some_departure (older (departures k)) ≡ false
  one_left ss vs [] goes = absurd goes
  one_left ss vs (frame.Leaves mode ∷ k) goes = outside_left (all_of ss) (older ss) (older vs) k (λ nest. none_left (older ss) (older vs) k nest) goes
  one_left ss vs (frame.Treats v (frame.begins by done) tasks ∷ k) goes = absurd goes
  one_left ss vs (frame.Treats v (frame.ends cause) tasks ∷ k) goes = one_left ss vs k goes
  one_left ss vs (frame.Ends v ∷ k) goes = one_left ss vs k goes
  one_left ss vs (frame.GivesBack v cause pool ∷ k) goes = one_left ss vs k goes
  one_left ss vs (f ∷ k) goes = absurd goes

  none_older : (bs : List Bool) → some_departure bs ≡ false → some_departure (older bs) ≡ false
  none_older [] none = none
  none_older (true ∷ bs) none = absurd (cc none)
  none_older (false ∷ bs) none = none

  left_alone : (s : State) → Nested types callees main false s → some_departure (older (departures s.control)) ≡ false
  left_alone s (standing ss w n) = none_older (departures s.control) (none_left ss (scopes s.masters) s.control n)
  left_alone s (parting ss w runs goes) = one_left ss (scopes s.masters) s.control goes
  left_alone s (beginning b) =
      subst (λ (k : List (Frame Value)). some_departure (older (departures k)) ≡ false) (sym b.control)
      (outside_left b.there b.ss (scopes b.rest) b.k (λ nest. none_left b.ss (scopes b.rest) b.k nest) b.nests)
  left_alone s (resting ss w none ends) = ap (λ (k : List (Frame Value)). some_departure (older (departures k))) ends

none_called_in : (p : ProgramForm) → overrides_none p ≡ true → calls_in p ≡ false
none_called_in p plain = ap not plain

pub innermost_alone : OnlyInnermostIsLeft
innermost_alone program well nest plain input events last run =
    let p = program_form program in
    let operations = none_nests p plain in
    left_alone p.types (callees_of p) None last
    (subst (λ (calling : Bool). Nested p.types (callees_of p) None calling last) (none_called_in p plain) (state_nested program well nest operations input events last run).nested)

-- So it is of those that last as long as an item.
abbrev LastOpenOrLeft : (n t : ℕ) → List Master → List Bool → Type 0
LastOpenOrLeft n t ms bs = OpenOrLeft t (scopes (lasting n ms)) (departs bs ms n)

by_owner : (n t : ℕ) (us : List ℕ) (ss : Scopes) (m : Master) (ms : List Master) (d : Bool) (bs : List Bool) → (1 ≤ times t (all_of (us ∷ ss)) → OpenOrLeft t (scopes (m ∷ ms)) (some_departure (d ∷ bs))) → (1 ≤ times t (all_of (last_opened n ms ss)) → LastOpenOrLeft n t ms bs) → (b : Bool) → 1 ≤ times t (all_of (if b then us ∷ ss else last_opened n ms ss)) → OpenOrLeft t (scopes (if b then m ∷ ms else lasting n ms)) (if b then some_departure (d ∷ bs) else departs bs ms n)
by_owner n t us ss m ms d bs here later true le = here le
by_owner n t us ss m ms d bs here later false le = later le

of_owner : (n t : ℕ) (ss : Scopes) (ms : List Master) (d : Bool) (bs : List Bool) → Covers ss (scopes ms) → (1 ≤ times t (all_of ss) → OpenOrLeft t (scopes ms) (some_departure (d ∷ bs))) → (1 ≤ times t (all_of (last_opened n (older ms) (older ss))) → LastOpenOrLeft n t (older ms) bs) → 1 ≤ times t (all_of (last_opened n ms ss)) → LastOpenOrLeft n t ms (d ∷ bs)
of_owner n t ss [] d bs covers here later le = absurd (omega (arith, le))
of_owner n t [] (m ∷ ms) d bs covers here later le = absurd covers
of_owner n t (us ∷ ss) (m ∷ ms) d bs covers here later le = by_owner n t us ss m ms d bs here later (is_number_of m.items n) le

no_masters : (n t : ℕ) (ss : Scopes) (ms : List Master) → scopes ms ≡ [] → 1 ≤ times t (all_of (last_opened n ms ss)) → ⊥
no_masters n t ss [] is le = omega (arith, le)
no_masters n t ss (m ∷ ms) is le = cc is

module _ (types : List TypeForm) (callees : Callees) (main : List ℕ) (calling : Bool) (n t : ℕ) where
  outside_last : (there : List ℕ) (ss : Scopes) (ms : List Master) (k : List (Frame Value)) → (Nests types callees (Some main) calling ss (scopes ms) k → LastOpenOrLeft n t ms (departures k)) → NestsOutside types callees (Some main) calling there ss (scopes ms) k → 1 ≤ times t (all_of (last_opened n ms ss)) → LastOpenOrLeft n t ms (departures k)
  outside_last there ss ms k lasts (inl none) le = absurd (no_masters n t ss ms none.1 le)
  outside_last there ss ms k lasts (inr nest) le = lasts nest

  mutual
    nests_last : (ss : Scopes) (ms : List Master) (k : List (Frame Value)) → Covers ss (scopes ms) → Nests types callees (Some main) calling ss (scopes ms) k → 1 ≤ times t (all_of (last_opened n ms ss)) → LastOpenOrLeft n t ms (departures k)
    nests_last ss ms [] covers nest le = absurd nest
    nests_last ss ms (frame.Elaborates ds fs hs ∷ k) covers nest le =
        of_owner n t ss ms false (departures k) covers (nests_opened types callees main calling t ss (scopes ms) (frame.Elaborates ds fs hs ∷ k) covers nest)
        (λ more. outside_last (all_of ss) (older ss) (older ms) k
        (λ later. nests_last (older ss) (older ms) k (rw (scopes_older ms) (covers_older ss (scopes ms) covers)) later more)
        (rw (scopes_older ms) nest.1) more) le
    nests_last ss ms (frame.Closes ∷ k) covers nest le =
        of_owner n t ss ms false (departures k) covers (nests_opened types callees main calling t ss (scopes ms) (frame.Closes ∷ k) covers nest)
        (λ more. outside_last (all_of ss) (older ss) (older ms) k
        (λ later. nests_last (older ss) (older ms) k (rw (scopes_older ms) (covers_older ss (scopes ms) covers)) later more)
        (rw (scopes_older ms) nest.1) more) le
    nests_last ss ms (frame.Leaves mode ∷ k) covers nest le = absurd nest.0
    nests_last ss ms (frame.Confines ∷ k) covers (x, inl nest) le = nests_last ss ms k covers nest le
    nests_last ss ms (frame.Confines ∷ k) covers (x, inr goes) le = goes_last ss ms k covers goes le
    nests_last ss ms (f ∷ k) covers nest le = nests_last ss ms k covers nest.1 le

    goes_last : (ss : Scopes) (ms : List Master) (k : List (Frame Value)) → Covers ss (scopes ms) → Goes types callees (Some main) calling ss (scopes ms) k → 1 ≤ times t (all_of (last_opened n ms ss)) → LastOpenOrLeft n t ms (departures k)
    goes_last ss ms [] covers goes le = absurd goes
    goes_last ss ms (frame.Leaves mode ∷ k) covers goes le =
        of_owner n t ss ms true (departures k) covers (goes_opened types callees main calling t ss (scopes ms) (frame.Leaves mode ∷ k) covers goes)
        (λ more. outside_last (all_of ss) (older ss) (older ms) k
        (λ later. nests_last (older ss) (older ms) k (rw (scopes_older ms) (covers_older ss (scopes ms) covers)) later more)
        (rw (scopes_older ms) goes) more) le
    goes_last ss ms (frame.Treats v (frame.begins by done) tasks ∷ k) covers goes le = absurd goes
    goes_last ss ms (frame.Treats v (frame.ends cause) tasks ∷ k) covers goes le = goes_last ss ms k covers goes le
    goes_last ss ms (frame.Ends v ∷ k) covers goes le = goes_last ss ms k covers goes le
    goes_last ss ms (frame.GivesBack v cause pool ∷ k) covers goes le = goes_last ss ms k covers goes le
    goes_last ss ms (f ∷ k) covers goes le = absurd goes

-- An object of an outer master, where the innermost is creating its collections.
departs_some : (n : ℕ) (bs : List Bool) (ms : List Master) → departs bs ms n ≡ true → some_departure bs ≡ true
departs_some n [] ms is = is
departs_some n (b ∷ bs) [] is = absurd (cc is)
departs_some n (b ∷ bs) (m ∷ ms) is = by (is_number_of m.items n) (departs_some n bs ms) is
  where
    by : (here : Bool) → (departs bs ms n ≡ true → some_departure bs ≡ true) → (if here then some_departure (b ∷ bs) else departs bs ms n) ≡ true → some_departure (b ∷ bs) ≡ true
    by true later e = e
    by false later e = number_by b (some_departure bs) (later e)

departs_more : (n : ℕ) (m : Master) (ms : List Master) (bs : List Bool) → departs bs ms n ≡ true → departs (false ∷ bs) (m ∷ ms) n ≡ true
departs_more n m ms bs is = by (is_number_of m.items n)
  where
    by : (here : Bool) → (if here then some_departure (false ∷ bs) else departs bs ms n) ≡ true
    by true = departs_some n bs ms is
    by false = is

outer_last : (n t : ℕ) (m : Master) (ms : List Master) (bs : List Bool) → LastOpenOrLeft n t ms bs → LastOpenOrLeft n t (m ∷ ms) (false ∷ bs)
outer_last n t m ms bs (inl left) = inl (departs_more n m ms bs left)
outer_last n t m ms bs (inr le) = inr (lasting_more n t m ms le)

target_whole : (types : List TypeForm) (ss : Scopes) (ms : List Master) (heap : List Object) (o : Id) (x : Object) (c : ℕ) (target : TypeNo) → Whole types ss ms heap → IsListed heap o x → HoldsNames types x.cell.access c target → 1 ≤ times target.0 (all_of (last_opened x.cell.home.item ms ss))
target_whole types ss ms heap o x c target w listed names =
    target_in types x.cell.home.item x.cell.access c target ss ms w.covers w.needs w.records names (at_item heap (items_of ms) w.housed o x listed)

target_nested : (types : List TypeForm) (callees : Callees) (main : List ℕ) (calling : Bool) (s : State) (o : Id) (x : Object) (c : ℕ) (target : TypeNo) → Nested types callees (Some main) calling s → IsListed s.heap o x → HoldsNames types x.cell.access c target → LastOpenOrLeft x.cell.home.item target.0 s.masters (departures s.control)
target_nested types callees main calling s o x c target (standing ss w n) listed names =
    nests_last types callees main calling x.cell.home.item target.0 ss s.masters s.control w.covers n (target_whole types ss s.masters s.heap o x c target w listed names)
target_nested types callees main calling s o x c target (parting ss w runs goes) listed names =
    goes_last types callees main calling x.cell.home.item target.0 ss s.masters s.control w.covers goes (target_whole types ss s.masters s.heap o x c target w listed names)
target_nested types callees main calling s o x c target (resting ss w none ends) listed names =
    absurd (no_masters x.cell.home.item target.0 ss s.masters none (target_whole types ss s.masters s.heap o x c target w listed names))
target_nested types callees main calling s o x c target (beginning b) listed names =
    let n = x.cell.home.item in
    let w = outer_whole types (Some main) b.ss b.m b.rest s.heap b.ds b.there b.growing in
    let le = target_whole types b.ss b.rest s.heap o x c target w listed names in
    let found = outside_last types callees main calling n target.0 b.there b.ss b.rest b.k
    (λ nest. nests_last types callees main calling n target.0 b.ss b.rest b.k w.covers nest le) b.nests le in
    subst (λ (ms : List Master). LastOpenOrLeft n target.0 ms (departures s.control)) (sym b.masters)
    (subst (λ (k : List (Frame Value)). LastOpenOrLeft n target.0 (b.m ∷ b.rest) (departures k)) (sym b.control) (outer_last n target.0 b.m b.rest (departures b.k) found))

pub outlived : ComponentsAreOutlived
outlived program well nest operations input events last run o x c target listed names =
    elim (target_nested (program_form program).types (callees_of (program_form program)) (collected (program_form program).declarations) (calls_in (program_form program)) last o x c target (state_so true program well nest operations input events last run).nested listed names) [
      | inl going ↦ inl going
      | inr le ↦ inr (open_in target.0 (lasting x.cell.home.item last.masters) le)
    ]

-- Which access type a name belongs to that a component holds.
kind_named : (types : List TypeForm) (cells : Cells) (kind : ComponentKind) (p : Id) → HasKind types cells (held_kind kind) (Names p) → (target : TypeNo) × (held_kind kind ≡ variable.Access target) × Designates cells target.0 p
kind_named types cells (component.Integer initial) p has = absurd has
kind_named types cells (component.Boolean initial) p has = absurd has
kind_named types cells (component.Access access) p has = (access, refl, has)

component_named : (types : List TypeForm) (cells : Cells) (cs : List ComponentKind) (vs : List Value) (c : ℕ) (p : Id) → HaveKinds types cells cs vs → slice_get vs c ≡ Some (Names p) → (target : TypeNo) × (component_kind (slice_get cs c) ≡ Some (variable.Access target)) × Designates cells target.0 p
component_named types cells [] [] c p have is = absurd (cc)
component_named types cells [] (v ∷ vs) c p have is = absurd have
component_named types cells (k ∷ cs) [] c p have is = absurd have
component_named types cells (k ∷ cs) (v ∷ vs) zero p have is =
    let same : v ≡ Names p = cc in
    let named = kind_named types cells k p (subst (λ (w : Value). HasKind types cells (held_kind k) w) same have.0) in
    (named.0, ap Some named.1, named.2)
component_named types cells (k ∷ cs) (v ∷ vs) (suc c) p have is = component_named types cells cs vs c p have.1 is

-- The one collection of its type is where what is named lies.
not_twice : (types : List TypeForm) (access m : ℕ) (us : List ℕ) (ss : Scopes) (is : List Item) → ItemsFit types is → is_access types access ≡ true → times access (opened is) ≤ times access us → 1 ≤ times access (all_of ss) → Lone (us ∷ ss) → HasItem m access is → ⊥
not_twice types access m us ss is fit known covers some lone own =
    let first = has_opened types m access is fit known own in
    let all = lone access in
    let sum = times_append access us (all_of ss) in
    omega (arith, some, covers, first, all, sum)

stays_in : (types : List TypeForm) (n m access : ℕ) (ss : Scopes) (ms : List Master) → Covers ss (scopes ms) → ItemsFit types (items_of ms) → is_access types access ≡ true → Lone ss → 1 ≤ times access (all_of (last_opened n ms ss)) → HasItem m access (items_of ms) → is_number_of (items_of (lasting n ms)) m ≡ true
stays_in types n m access ss [] covers fit known lone le has = absurd has
stays_in types n m access [] (x ∷ ms) covers fit known lone le has = absurd covers
stays_in types n m access (us ∷ ss) (x ∷ ms) covers fit known lone le has =
    by (is_number_of x.items n) refl
    (λ more outer. stays_in types n m access ss ms covers.1 (fit_after types x.items (items_of ms) fit) known (lone_older (us ∷ ss) lone) more outer)
  where
    by : (b : Bool) → is_number_of x.items n ≡ b → (1 ≤ times access (all_of (last_opened n ms ss)) → HasItem m access (items_of ms) → is_number_of (items_of (lasting n ms)) m ≡ true) → is_number_of (items_of (lasting n (x ∷ ms))) m ≡ true
    by true here later =
        subst (λ (xs : List Master). is_number_of (items_of xs) m ≡ true) (sym (lasting_here n x ms here)) (has_number m access (items_of (x ∷ ms)) has)
    by false away later =
        let more : 1 ≤ times access (all_of (last_opened n ms ss)) = subst (λ (xs : Scopes). 1 ≤ times access (all_of xs)) (last_behind n x ms us ss away) le in
        let fewer = last_fewer n access ms ss in
        subst (λ (xs : List Master). is_number_of (items_of xs) m ≡ true) (sym (lasting_behind n x ms away))
        (elim (has_split m access x.items (items_of ms) has) [
          | inl own ↦ absurd (not_twice types access m us ss x.items (fit_before types x.items (items_of ms) fit) known (covers.0 access) (omega (arith, more, fewer)) lone own)
          | inr outer ↦ later more outer
        ])

lasting_numbers : (n m : ℕ) (ms : List Master) → is_number_of (items_of (lasting n ms)) m ≡ true → is_number_of (items_of ms) m ≡ true
lasting_numbers n m [] is = is
lasting_numbers n m (x ∷ ms) is = go (is_number_of x.items n) refl (lasting_numbers n m ms)
  where
    go : (b : Bool) → is_number_of x.items n ≡ b → (is_number_of (items_of (lasting n ms)) m ≡ true → is_number_of (items_of ms) m ≡ true) → is_number_of (items_of (x ∷ ms)) m ≡ true
    go true here later = subst (λ (xs : List Master). is_number_of (items_of xs) m ≡ true) (lasting_here n x ms here) is
    go false here later = number_after m x.items (items_of ms) (later (subst (λ (xs : List Master). is_number_of (items_of xs) m ≡ true) (lasting_behind n x ms here) is))

stays_more : (n m : ℕ) (own ms : List Master) → is_number_of (items_of (lasting n ms)) m ≡ true → is_number_of (items_of (lasting n (own ++ ms))) m ≡ true
stays_more n m [] ms is = is
stays_more n m (x ∷ own) ms is = by (is_number_of x.items n) refl (stays_more n m own ms is)
  where
    by : (b : Bool) → is_number_of x.items n ≡ b → is_number_of (items_of (lasting n (own ++ ms))) m ≡ true → is_number_of (items_of (lasting n (x ∷ own ++ ms))) m ≡ true
    by true here later =
        subst (λ (xs : List Master). is_number_of (items_of xs) m ≡ true) (sym (lasting_here n x (own ++ ms) here))
        (number_after m x.items (items_of (own ++ ms)) (lasting_numbers n m (own ++ ms) later))
    by false away later = subst (λ (xs : List Master). is_number_of (items_of xs) m ≡ true) (sym (lasting_behind n x (own ++ ms) away)) later

-- A state that nests, and in which objects have values of the kinds of their components.
abbrev pub AreOfKinds : List TypeForm → State → Type 0
AreOfKinds types s = (o : Id) (x : Object) → object_at s.heap o ≡ Some x → IsFilled types (cells_of s.heap) x.cell

pub held_outside : (p : ProgramForm) (s : State) → Scoped p s → AreOfKinds p.types s → HeldOutside s
held_outside program s scoped kinds holder held holds =
    let types = program.types in
    let callees = callees_of program in
    let here_settled = settled types callees None (calls_in program) s scoped.nested in
    let o = holds.0 in
    let p = holds.1 in
    let listed = holds.3 in
    let own = holds.4 in
    let filled = kinds o holder listed.0 in
    let named = component_named types (cells_of s.heap) filled.0 holder.cell.values holds.2 p filled.2 holds.5 in
    let names : HoldsNames types holder.cell.access holds.2 named.0 = ap (λ (found : Option (List ComponentKind)). kind_among found holds.2) filled.1 ∙ named.1 in
    let here : slice_get (cells_of s.heap) p.0 ≡ Some held.cell = cell_at s.heap p.0 held own.0 in
    let twice : Some named.2.0 ≡ Some held.cell = sym named.2.1 ∙ here in
    let one_cell : named.2.0 ≡ held.cell = cc in
    let access : held.cell.access ≡ named.0.0 = ap (λ (x : Cell Value). x.access) (sym one_cell) ∙ named.2.2 in
    let w = here_settled.whole in
    let n = holder.cell.home.item in
    let m = held.cell.home.item in
    let le = target_whole types here_settled.ss here_settled.ms s.heap o holder holds.2 named.0 w listed names in
    let fewer = last_fewer n named.0.0 here_settled.ms here_settled.ss in
    let has = subst (λ (a : ℕ). HasItem m a (items_of here_settled.ms)) access (at_item s.heap (items_of here_settled.ms) w.housed p held own) in
    let known = w.known named.0.0 (omega (arith, le, fewer)) in
    subst (λ (ms : List Master). is_number_of (items_of (lasting n ms)) m ≡ true) (sym here_settled.masters)
    (stays_more n m here_settled.own here_settled.ms (stays_in types n m named.0.0 here_settled.ss here_settled.ms w.covers w.fit known w.lone le has))

pub outside : NamesStayOutside
outside program well nest operations input events last run =
    held_outside (program_form program) last (state_nested program well nest operations input events last run)
    (λ o x at. objects_have_their_kinds program well input events last o x run at)

-- A number belongs to one master only.
or_by : (b c : Bool) (P : Type 0) → (b ≡ true → P) → (c ≡ true → P) → (b || c) ≡ true → P
or_by true c P left right is = left refl
or_by false c P left right is = right is

none_below : (n : ℕ) (is : List Item) → All (λ j. j.number < n) is → is_number_of is n ≡ true → ⊥
none_below n [] all is = cc
none_below n (i ∷ is) all here =
    or_by (i.number == n) (is_number_of is n) ⊥ (λ same. let e = eqb-true i.number n same in let lt = all zero i (omega arith) in omega (arith, e, lt)) (λ later. none_below n is (λ k d lt. all (suc k) d (omega (arith, lt))) later) here

newest_apart : (n : ℕ) (i : Item) (is js : List Item) → AllPairs Falls ((i ∷ is) ++ js) → i.number ≡ n → is_number_of js n ≡ true → ⊥
newest_apart n i is js falls same there =
    none_below n (is ++ js) (λ k d lt. let less = falls zero (suc k) d (omega arith) (omega (arith, lt)) in omega (arith, less, same)) (number_after n is js there)

apart : (n : ℕ) (is js : List Item) → AllPairs Falls (is ++ js) → is_number_of is n ≡ true → is_number_of js n ≡ true → ⊥
apart n [] js falls here there = cc
apart n (i ∷ is) js falls here there =
    or_by (i.number == n) (is_number_of is n) ⊥ (λ same. newest_apart n i is js falls (eqb-true i.number n same) there)
    (λ later. apart n is js (λ a b d lt short. falls (suc a) (suc b) d (omega (arith, lt)) (omega (arith, short))) later there) here

innermost_by : (n m : ℕ) (ms : List Master) → AllPairs Falls (items_of ms) → is_number_of (items_of (lasting n ms)) m ≡ true → is_innermost ms m ≡ true → is_innermost ms n ≡ true
innermost_by n m [] falls is innermost = innermost
innermost_by n m (x ∷ ms) falls is innermost = go (is_number_of x.items n) refl
  where
    go : (b : Bool) → is_number_of x.items n ≡ b → is_number_of x.items n ≡ true
    go true here = here
    go false here =
        let later = subst (λ (xs : List Master). is_number_of (items_of xs) m ≡ true) (lasting_behind n x ms here) is in
        absurd (apart m x.items (items_of ms) falls innermost (lasting_numbers n m ms later))

pub held_inside : (s : State) → AllPairs Falls (items_of s.masters) → HeldOutside s → InnermostHeldInside s
held_inside s falls outer holder held holds innermost =
    innermost_by holder.cell.home.item held.cell.home.item s.masters falls (outer holder held holds) innermost

pub innermost_unnamed : InnermostIsNotNamed
innermost_unnamed program well nest operations input events last run =
    held_inside last (orders.items_fall program input events last run) (outside program well nest operations input events last run)
