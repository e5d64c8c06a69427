-- How often an access type stands in a list, and which collections the items of masters are.

use Rattle.std.proofs.Common.{◌≡◌, ℕ, zero, suc, ◌+◌, ◌≤◌, ◌==◌, ◌&&◌, ◌||◌, Bool, true, false, List, [], ◌∷◌, ◌++◌, Option, Some, None, arith, refl, ap, ◌∙◌, subst}
use Rattle.std.proofs.lemmas.Bool.{eqb-true}
use Rattle.std.specs.List.{slice_get, list_all}
use Rattle.ada_program.specs.declared.program.ComponentKind.{ComponentKind}
use Rattle.ada_program.specs.declared.program.ComponentKind.TheVariants as component
use Rattle.ada_program.specs.declared.program.TypeNo.{TypeNo}
use Rattle.ada_program.specs.declared.program.VariableKind.TheVariants as variable
use Rattle.ada_program.specs.WellFormed.{held_kind, component_kind, kind_among}
use Rattle.ada_program.specs.Nested.{is_one_of, kind_is_open, are_open}
use Rattle.ada_meaning.specs.State.{Owned, declared, collection, record_object, storage_pool, Item, Master}
use Rattle.ada_meaning.specs.Step.{older, owning, shorter}
use Rattle.ada_meaning.specs.Law.{items_of}

-- Of two conditions that hold, each does.
pub and_left : (a b : Bool) → (a && b) ≡ true → a ≡ true
and_left true b h = refl
and_left false b h = absurd (cc)

pub and_right : (a b : Bool) → (a && b) ≡ true → b ≡ true
and_right true b h = h
and_right false b h = absurd (cc)

-- How often a number stands in a list.
abbrev pub one : Bool → ℕ
one true = 1
one false = 0

abbrev pub times : ℕ → List ℕ → ℕ
times t [] = 0
times t (u ∷ us) = one (u == t) + times t us

pub times_append : (t : ℕ) (us vs : List ℕ) → times t (us ++ vs) ≡ times t us + times t vs
times_append t [] vs = omega arith
times_append t (u ∷ us) vs = let h = times_append t us vs in omega (arith, h)

-- It stands there at least once where it is one of them.
one_more : (b c : Bool) (n : ℕ) → (c ≡ true → 1 ≤ n) → (b || c) ≡ true → 1 ≤ one b + n
one_more true c n h is = omega arith
one_more false c n h is = let le = h is in omega (arith, le)

pub times_of : (us : List ℕ) (t : ℕ) → is_one_of us t ≡ true → 1 ≤ times t us
times_of [] t is = absurd (cc)
times_of (u ∷ us) t is = one_more (u == t) (is_one_of us t) (times t us) (times_of us t) is

none_more : (b c : Bool) (n : ℕ) → (c ≡ false → n ≡ 0) → (b || c) ≡ false → one b + n ≡ 0
none_more true c n h is = absurd (cc)
none_more false c n h is = let none = h is in omega (arith, none)

pub times_none : (us : List ℕ) (t : ℕ) → is_one_of us t ≡ false → times t us ≡ 0
times_none [] t is = refl
times_none (u ∷ us) t is = none_more (u == t) (is_one_of us t) (times t us) (times_none us t) is

of_times_by : (us : List ℕ) (t : ℕ) (b : Bool) → is_one_of us t ≡ b → 1 ≤ times t us → is_one_of us t ≡ true
of_times_by us t true is le = is
of_times_by us t false is le = let none = times_none us t is in absurd (omega (arith, none, le))

pub of_times : (us : List ℕ) (t : ℕ) → 1 ≤ times t us → is_one_of us t ≡ true
of_times us t le = of_times_by us t (is_one_of us t) refl le

-- One of those of which something holds.
all_at : (test : ℕ → Bool) (u : ℕ) (us : List ℕ) (t : ℕ) (b : Bool) → (u == t) ≡ b → (1 ≤ times t us → test t ≡ true) → test u ≡ true → 1 ≤ one b + times t us → test t ≡ true
all_at test u us t true same rest here le = subst (λ n. test n ≡ true) (eqb-true u t same) here
all_at test u us t false same rest here le = rest (omega (arith, le))

pub all_times : (test : ℕ → Bool) (us : List ℕ) → list_all test us ≡ true → (t : ℕ) → 1 ≤ times t us → test t ≡ true
all_times test [] all t le = absurd (omega (arith, le))
all_times test (u ∷ us) all t le =
    all_at test u us t (u == t) refl (all_times test us (and_right (test u) (list_all test us) all) t) (and_left (test u) (list_all test us) all) le

-- What is open in one list is opens in another that has at least the same.
abbrev pub Within : List ℕ → List ℕ → Type 0
Within us vs = (t : ℕ) → 1 ≤ times t us → 1 ≤ times t vs

kind_within : (us vs : List ℕ) (kind : ComponentKind) → Within us vs → kind_is_open us kind ≡ true → kind_is_open vs kind ≡ true
kind_within us vs (component.Integer initial) le is = refl
kind_within us vs (component.Boolean initial) le is = refl
kind_within us vs (component.Access access) le is = of_times vs access.0 (le access.0 (times_of us access.0 is))

both : (a b : Bool) → a ≡ true → b ≡ true → (a && b) ≡ true
both true b h g = g
both false b h g = h

components_within : (us vs : List ℕ) (cs : List ComponentKind) → Within us vs → list_all (kind_is_open us) cs ≡ true → list_all (kind_is_open vs) cs ≡ true
components_within us vs [] le is = refl
components_within us vs (c ∷ cs) le is =
    both (kind_is_open vs c) (list_all (kind_is_open vs) cs) (kind_within us vs c le (and_left (kind_is_open us c) (list_all (kind_is_open us) cs) is))
    (components_within us vs cs le (and_right (kind_is_open us c) (list_all (kind_is_open us) cs) is))

pub open_within : (us vs : List ℕ) (o : Option (List ComponentKind)) → Within us vs → are_open us o ≡ true → are_open vs o ≡ true
open_within us vs None le is = refl
open_within us vs (Some cs) le is = components_within us vs cs le is

-- The collection of what a component names is open.
kind_open : (us : List ℕ) (kind : ComponentKind) (target : TypeNo) → held_kind kind ≡ variable.Access target → kind_is_open us kind ≡ true → 1 ≤ times target.0 us
kind_open us (component.Integer initial) target is opens = absurd (cc)
kind_open us (component.Boolean initial) target is opens = absurd (cc)
kind_open us (component.Access access) target is opens = let same : access ≡ target = cc in subst (λ (t : TypeNo). 1 ≤ times t.0 us) same (times_of us access.0 opens)

component_open : (us : List ℕ) (cs : List ComponentKind) (c : ℕ) (target : TypeNo) → component_kind (slice_get cs c) ≡ Some (variable.Access target) → list_all (kind_is_open us) cs ≡ true → 1 ≤ times target.0 us
component_open us [] c target is opens = absurd (cc)
component_open us (x ∷ cs) zero target is opens = kind_open us x target (cc) (and_left (kind_is_open us x) (list_all (kind_is_open us) cs) opens)
component_open us (x ∷ cs) (suc c) target is opens = component_open us cs c target is (and_right (kind_is_open us x) (list_all (kind_is_open us) cs) opens)

pub target_open : (us : List ℕ) (o : Option (List ComponentKind)) (c : ℕ) (target : TypeNo) → kind_among o c ≡ Some (variable.Access target) → are_open us o ≡ true → 1 ≤ times target.0 us
target_open us None c target is opens = absurd (cc)
target_open us (Some cs) c target is opens = component_open us cs c target is opens

-- The access types whose collections are items, newest first.
abbrev pub opened_by : Owned → List ℕ → List ℕ
opened_by (declared x) us = us
opened_by (collection access pool) us = access ∷ us
opened_by (record_object t) us = us
opened_by (storage_pool declaration number) us = us

abbrev pub opened : List Item → List ℕ
opened [] = []
opened (i ∷ is) = opened_by i.owned (opened is)

-- The same, master by master, the innermost first.
abbrev pub Scopes : Type 0
Scopes = List (List ℕ)

abbrev pub scopes : List Master → Scopes
scopes [] = []
scopes (m ∷ ms) = opened m.items ∷ scopes ms

abbrev pub all_of : Scopes → List ℕ
all_of [] = []
all_of (us ∷ uss) = us ++ all_of uss

opened_append_by : (owned : Owned) (us vs ws : List ℕ) → us ≡ vs ++ ws → opened_by owned us ≡ opened_by owned vs ++ ws
opened_append_by (declared x) us vs ws is = is
opened_append_by (record_object t) us vs ws is = is
opened_append_by (collection access pool) us vs ws is = ap (λ (xs : List ℕ). access ∷ xs) is
opened_append_by (storage_pool declaration number) us vs ws is = is

opened_append : (is js : List Item) → opened (is ++ js) ≡ opened is ++ opened js
opened_append [] js = refl
opened_append (i ∷ is) js = opened_append_by i.owned (opened (is ++ js)) (opened is) (opened js) (opened_append is js)

pub opened_all : (ms : List Master) → opened (items_of ms) ≡ all_of (scopes ms)
opened_all [] = refl
opened_all (m ∷ ms) = opened_append m.items (items_of ms) ∙ ap (λ (us : List ℕ). opened m.items ++ us) (opened_all ms)

-- A variable opens no collection, and neither does a record object.
pub scopes_declared : (number x : ℕ) (ms : List Master) → scopes (owning (record { number = number; owned = declared x }) ms) ≡ scopes ms
scopes_declared number x [] = refl
scopes_declared number x (m ∷ ms) = refl

pub scopes_recorded : (number t : ℕ) (ms : List Master) → scopes (owning (record { number = number; owned = record_object t }) ms) ≡ scopes ms
scopes_recorded number t [] = refl
scopes_recorded number t (m ∷ ms) = refl

-- An item goes.
fewer_by : (t : ℕ) (owned : Owned) (us : List ℕ) → times t us ≤ times t (opened_by owned us)
fewer_by t (declared x) us = omega arith
fewer_by t (collection access pool) us = omega arith
fewer_by t (record_object u) us = omega arith
fewer_by t (storage_pool declaration number) us = omega arith

pub fewer_opened : (t : ℕ) (is : List Item) → times t (opened (older is)) ≤ times t (opened is)
fewer_opened t [] = omega arith
fewer_opened t (i ∷ is) = fewer_by t i.owned (opened is)

pub older_shorter : (ms : List Master) → older (scopes (shorter ms)) ≡ older (scopes ms)
older_shorter [] = refl
older_shorter (m ∷ ms) = refl

-- A master goes.
pub fewer_older : (t : ℕ) (ss : Scopes) → times t (all_of (older ss)) ≤ times t (all_of ss)
fewer_older t [] = omega arith
fewer_older t (us ∷ ss) = let all = times_append t us (all_of ss) in omega (arith, all)

pub scopes_older : (ms : List Master) → scopes (older ms) ≡ older (scopes ms)
scopes_older [] = refl
scopes_older (m ∷ ms) = refl
