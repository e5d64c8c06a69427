-- What is left to do nests in the masters that are entered: the statements of each frame were written where the collections are open that
-- its master and the outer ones have. The outermost of them is that of the main procedure, which opens the collections that this declares.

use Rattle.std.proofs.Common.{◌≡◌, ℕ, zero, suc, ◌+◌, ◌≤◌, Bool, true, false, List, [], ◌∷◌, ◌++◌, Some, None, arith, refl, sym, ap, ◌⊎◌, inl, inr, Option}
use Rattle.std.specs.List.{slice_get, list_all}
use Rattle.ada_parts.specs.Task.{Task}
use Rattle.ada_program.specs.Form.{DeclarationForm, StmtsForm, HandlersForm}
use Rattle.ada_program.specs.ProgramForm.{TypeForm}
use Rattle.ada_program.specs.WellFormed.{is_access, reached_components, is_object, collections_first}
use Rattle.ada_program.specs.Nested.{Callees, call_nests, collected, are_open}
use Rattle.ada_meaning.specs.declared.state.Value.{Value}
use Rattle.ada_meaning.specs.declared.event.Cause.{Cause}
use Rattle.ada_meaning.specs.declared.state.Mode.TheVariants.{Running}
use Rattle.ada_meaning.specs.Heap.{Cell}
use Rattle.ada_meaning.specs.Frame.{Frame, Treatment, is_master}
use Rattle.ada_meaning.specs.Frame as frame
use Rattle.ada_meaning.specs.State.{Owned, declared, collection, record_object, storage_pool, Item, Master}
use Rattle.ada_meaning.specs.Step.{older, owning, shorter, treating}
use Rattle.ada_meaning.specs.Named.{Object, State, new_object}
use Rattle.ada_meaning.specs.Law.{items_of}
use Rattle.ada_scopes.proofs.Counts.{times, times_append, Within, open_within, opened, Scopes, scopes, all_of, scopes_declared, scopes_recorded, fewer_opened, fewer_older}
use Rattle.ada_scopes.proofs.Texts.{RecordsNest, PartNests, StatementsNest, BranchesNest, HandlersNest, BodyNests}
use Rattle.ada_scopes.proofs.Layers.{Bare, AllLayered, bare_layered, layered_owning}
use Rattle.ada_scopes.proofs.Homes.{ItemsFit, fit_before, fit_owning, opened_fits, Housed, housed_after, housed_owning, housed_new, IsEmpty, housed_shorter}

-- Two lists have each number equally often.
abbrev pub Alike : List ℕ → List ℕ → Type 0
Alike us vs = (t : ℕ) → times t us ≡ times t vs

-- It was written where collections were open like these.
abbrev pub Where : List ℕ → (List ℕ → Type 0) → Type 0
Where us P = (around : List ℕ) × Alike around us × P around

-- Operations need the collections open that the main procedure declares, or those of all access types: an operation is called then as if its master opened
-- all that are not open. So a master lacks collections of these then.
abbrev pub Lacks : (main : Option (List ℕ)) → List ℕ → Type 0
Lacks None us = Unit {0}
Lacks (Some main) us = us ≡ []

-- The collections of the main procedure are open, where operations need these.
abbrev pub HasMain : (main : Option (List ℕ)) → (there : List ℕ) → Type 0
HasMain None there = Unit {0}
HasMain (Some main) there = Within main there

-- The innermost master has all the collections that it opens: none has gone, where it lacks none.
abbrev pub OwnsAll : (main : Option (List ℕ)) → (ss vs : Scopes) → Type 0
OwnsAll main [] vs = ⊥
OwnsAll main (us ∷ ss) [] = ⊥
OwnsAll None (us ∷ ss) (ws ∷ vs) = Unit {0}
OwnsAll (Some main) (us ∷ ss) (ws ∷ vs) = Alike us ws

-- What the components of a record object name lies in collections that are open; and its type is no access type.
abbrev pub RecordHere : List TypeForm → List ℕ → ℕ → Type 0
RecordHere types us t = Where us (λ around. (is_access types t ≡ false) × (are_open around (reached_components types t) ≡ true))

-- What a frame holds was written where these are open. Frames without statements nest everywhere; a part that is under way has created all
-- its collections, has a master, and what the record objects need that it has left to create is open, be it one whose initial value is evaluated; a body
-- that is called nests as if it stood there. A master that is being left stands behind what goes with it alone. The body of a Finalize is called where some
-- type overrides an operation.
abbrev pub FrameNests : List TypeForm → Callees → (main : Option (List ℕ)) → (calling : Bool) → (ss vs : Scopes) → Frame Value → Type 0
FrameNests types callees main calling ss vs (frame.Elaborates ds fs hs) =
    (list_all is_object ds ≡ true) × Where (all_of ss) (λ around. StatementsNest types callees around fs × HandlersNest types callees around hs × RecordsNest types around ds)
    × OwnsAll main ss vs
FrameNests types callees main calling ss vs (frame.Does fs) = Where (all_of ss) (λ around. StatementsNest types callees around fs)
FrameNests types callees main calling ss vs (frame.Decides fs branches) = Where (all_of ss) (λ around. StatementsNest types callees around fs × BranchesNest types callees around branches)
FrameNests types callees main calling ss vs (frame.Repeats condition fs) = Where (all_of ss) (λ around. StatementsNest types callees around fs)
FrameNests types callees main calling ss vs (frame.Turns condition fs) = Where (all_of ss) (λ around. StatementsNest types callees around fs)
FrameNests types callees main calling ss vs (frame.Ranges x fs) = Where (all_of ss) (λ around. StatementsNest types callees around fs)
FrameNests types callees main calling ss vs (frame.Counts x value last fs) = Where (all_of ss) (λ around. StatementsNest types callees around fs)
FrameNests types callees main calling ss vs (frame.Handles hs) = Where (all_of ss) (λ around. HandlersNest types callees around hs)
FrameNests types callees main calling ss vs (frame.Calls procedure b actuals) =
    Where (all_of ss) (λ around. BodyNests types callees around b × (call_nests (slice_get callees procedure) around ≡ true))
FrameNests types callees main calling ss vs (frame.DeclaresRecord x t) = RecordHere types (all_of ss) t × OwnsAll main ss vs
FrameNests types callees main calling ss vs frame.Closes = OwnsAll main ss vs
FrameNests types callees main calling ss vs frame.Confines = calling ≡ true
FrameNests types callees main calling ss vs (frame.Leaves mode) = ⊥
FrameNests types callees main calling ss vs f = Unit {0}

-- What is open behind a frame: that of a master is the last one of its master.
abbrev pub behind : (master : Bool) → Scopes → Scopes
behind true ss = older ss
behind false ss = ss

-- Does the body of a Finalize come to its end here?
abbrev pub is_confine : Frame Value → Bool
is_confine frame.Confines = true
is_confine f = false

-- What may be behind a frame: where the body of a Finalize comes to its end, a master may be being left.
abbrev pub Either : (confined : Bool) → (nests goes : Type 0) → Type 0
Either true nests goes = nests ⊎ goes
Either false nests goes = nests

-- What is behind the last frame of a master, where these collections are open: what nests there, or nothing at all, and no master is entered. It is that of
-- the main procedure then, and the collections that this declares are among them.
abbrev pub Outside : (main : Option (List ℕ)) → (there : List ℕ) → (vs : Scopes) → List (Frame Value) → (nests : Type 0) → Type 0
Outside main there vs k nests = ((k ≡ []) × (vs ≡ []) × HasMain main there) ⊎ nests

-- What is behind a frame, whether or not it is the last one of its master.
abbrev pub Around : (master : Bool) → (outside nests : Type 0) → Type 0
Around true outside nests = outside
Around false outside nests = nests

abbrev mutual
  -- What is left to do nests, where masters have opened the first ones of these, of which they have the second ones: a master that is being left has
  -- lost some. The outermost one has opened the collections of the main procedure: something is left to do there.
  pub Nests : List TypeForm → Callees → (main : Option (List ℕ)) → (calling : Bool) → (ss vs : Scopes) → List (Frame Value) → Type 0
  Nests types callees main calling ss vs [] = ⊥
  Nests types callees main calling ss vs (f ∷ k) =
      FrameNests types callees main calling ss vs f
      × Either (is_confine f) (Around (is_master f)
      (Outside main (all_of ss) (behind (is_master f) vs) k (Nests types callees main calling (behind (is_master f) ss) (behind (is_master f) vs) k))
      (Nests types callees main calling (behind (is_master f) ss) (behind (is_master f) vs) k))
      (Goes types callees main calling (behind (is_master f) ss) (behind (is_master f) vs) k)

  -- The innermost master is being left, and what is behind that nests.
  pub Goes : List TypeForm → Callees → (main : Option (List ℕ)) → (calling : Bool) → (ss vs : Scopes) → List (Frame Value) → Type 0
  Goes types callees main calling ss vs [] = ⊥
  Goes types callees main calling ss vs (frame.Leaves mode ∷ k) =
      Outside main (all_of ss) (older vs) k (Nests types callees main calling (older ss) (older vs) k)
  Goes types callees main calling ss vs (frame.Treats v (frame.ends cause) tasks ∷ k) = Goes types callees main calling ss vs k
  Goes types callees main calling ss vs (frame.Ends v ∷ k) = Goes types callees main calling ss vs k
  Goes types callees main calling ss vs (frame.GivesBack v cause pool ∷ k) = Goes types callees main calling ss vs k
  Goes types callees main calling ss vs (f ∷ k) = ⊥

-- What is behind a master in which these collections are open, where outer ones have opened the first ones of these.
abbrev pub NestsOutside : List TypeForm → Callees → (main : Option (List ℕ)) → (calling : Bool) → (there : List ℕ) → (ss vs : Scopes) → List (Frame Value) → Type 0
NestsOutside types callees main calling there ss vs k = Outside main there vs k (Nests types callees main calling ss vs k)

-- So it is where others are open that are alike.
has_main : (main : Option (List ℕ)) (us there : List ℕ) → ((t : ℕ) → times t us ≤ times t there) → HasMain main us → HasMain main there
has_main None us there more has = tt
has_main (Some main) us there more has = λ t le. let some = has t le in let fewer = more t in omega (arith, some, fewer)

pub outside_alike : (main : Option (List ℕ)) (us there : List ℕ) (vs : Scopes) (k : List (Frame Value)) (nests : Type 0) → Alike us there → Outside main us vs k nests → Outside main there vs k nests
outside_alike main us there vs k nests alike (inl none) =
    inl (none.0, none.1, has_main main us there (λ t. let same = alike t in omega (arith, same)) none.2)
outside_alike main us there vs k nests alike (inr nest) = inr nest

-- The collections of the main procedure are among those that masters have opened which still have something to do.
within_more : (main : Option (List ℕ)) (ss : Scopes) → HasMain main (all_of (older ss)) → HasMain main (all_of ss)
within_more main ss within = has_main main (all_of (older ss)) (all_of ss) (λ t. fewer_older t ss) within

within_outside : (main : Option (List ℕ)) (ss vs : Scopes) (k : List (Frame Value)) (nests : Type 0) → (nests → HasMain main (all_of (older ss))) → Outside main (all_of ss) vs k nests → HasMain main (all_of ss)
within_outside main ss vs k nests outer (inl none) = none.2
within_outside main ss vs k nests outer (inr nest) = within_more main ss (outer nest)

module _ (types : List TypeForm) (callees : Callees) (main : Option (List ℕ)) (calling : Bool) where
  mutual
    pub nests_within : (ss vs : Scopes) (k : List (Frame Value)) → Nests types callees main calling ss vs k → HasMain main (all_of ss)
    nests_within ss vs [] n = absurd n
    nests_within ss vs (frame.Elaborates ds fs hs ∷ k) n =
        within_outside main ss (older vs) k (Nests types callees main calling (older ss) (older vs) k) (λ nest. nests_within (older ss) (older vs) k nest) n.1
    nests_within ss vs (frame.Closes ∷ k) n =
        within_outside main ss (older vs) k (Nests types callees main calling (older ss) (older vs) k) (λ nest. nests_within (older ss) (older vs) k nest) n.1
    nests_within ss vs (frame.Leaves mode ∷ k) n = absurd n.0
    nests_within ss vs (frame.Confines ∷ k) (x, inl n) = nests_within ss vs k n
    nests_within ss vs (frame.Confines ∷ k) (x, inr goes) = goes_within ss vs k goes
    nests_within ss vs (f ∷ k) n = nests_within ss vs k n.1

    pub goes_within : (ss vs : Scopes) (k : List (Frame Value)) → Goes types callees main calling ss vs k → HasMain main (all_of ss)
    goes_within ss vs [] goes = absurd goes
    goes_within ss vs (frame.Leaves mode ∷ k) goes =
        within_outside main ss (older vs) k (Nests types callees main calling (older ss) (older vs) k) (λ nest. nests_within (older ss) (older vs) k nest) goes
    goes_within ss vs (frame.Treats v (frame.begins by done) tasks ∷ k) goes = absurd goes
    goes_within ss vs (frame.Treats v (frame.ends cause) tasks ∷ k) goes = goes_within ss vs k goes
    goes_within ss vs (frame.Ends v ∷ k) goes = goes_within ss vs k goes
    goes_within ss vs (frame.GivesBack v cause pool ∷ k) goes = goes_within ss vs k goes
    goes_within ss vs (f ∷ k) goes = absurd goes

-- An object is treated before what is left to do (7.6, 7.6.1).
pub nests_treating : (types : List TypeForm) (callees : Callees) (main : Option (List ℕ)) (calling : Bool) (ss vs : Scopes) (v : Value) (treatment : Treatment) (tasks : List Task) (k : List (Frame Value)) → Nests types callees main calling ss vs k → Nests types callees main calling ss vs (treating v treatment tasks k)
nests_treating types callees main calling ss vs v treatment [] k n = n
nests_treating types callees main calling ss vs v treatment (task ∷ tasks) k n = (tt, n)

pub goes_treating : (types : List TypeForm) (callees : Callees) (main : Option (List ℕ)) (calling : Bool) (ss vs : Scopes) (v : Value) (cause : Cause) (tasks : List Task) (k : List (Frame Value)) → Goes types callees main calling ss vs k → Goes types callees main calling ss vs (treating v (frame.ends cause) tasks k)
goes_treating types callees main calling ss vs v cause [] k goes = goes
goes_treating types callees main calling ss vs v cause (task ∷ tasks) k goes = goes

-- What the components of an access type's objects name lies in collections that are open.
abbrev pub NeedsOpen : List TypeForm → List ℕ → List ℕ → Type 0
NeedsOpen types us there = (t : ℕ) → 1 ≤ times t us → are_open there (reached_components types t) ≡ true

-- So it is of each master's collections, with those of the outer ones.
abbrev pub AreOpen : List TypeForm → Scopes → Type 0
AreOpen types [] = Unit {0}
AreOpen types (us ∷ ss) = NeedsOpen types us (us ++ all_of ss) × AreOpen types ss

pub open_older : (types : List TypeForm) (ss : Scopes) → AreOpen types ss → AreOpen types (older ss)
open_older types [] h = h
open_older types (us ∷ ss) h = h.1

-- What the components of record objects name lies in collections that are open.
abbrev pub RecordNeeds : List TypeForm → (there : List ℕ) → Owned → Type 0
RecordNeeds types there (declared x) = Unit {0}
RecordNeeds types there (collection access pool) = Unit {0}
RecordNeeds types there (record_object t) = are_open there (reached_components types t) ≡ true
RecordNeeds types there (storage_pool declaration number) = Unit {0}

abbrev pub RecordsNeed : List TypeForm → (there : List ℕ) → List Item → Type 0
RecordsNeed types there [] = Unit {0}
RecordsNeed types there (i ∷ is) = RecordNeeds types there i.owned × RecordsNeed types there is

-- So it is of each master's record objects, with the collections that it and the outer ones open.
abbrev pub RecordsOpen : List TypeForm → Scopes → List Master → Type 0
RecordsOpen types [] ms = Unit {0}
RecordsOpen types (us ∷ ss) [] = Unit {0}
RecordsOpen types (us ∷ ss) (m ∷ ms) = RecordsNeed types (us ++ all_of ss) m.items × RecordsOpen types ss ms

record_within : (types : List TypeForm) (us vs : List ℕ) (owned : Owned) → Within us vs → RecordNeeds types us owned → RecordNeeds types vs owned
record_within types us vs (declared x) within h = h
record_within types us vs (collection access pool) within h = h
record_within types us vs (record_object t) within h = open_within us vs (reached_components types t) within h
record_within types us vs (storage_pool declaration number) within h = h

records_within : (types : List TypeForm) (us vs : List ℕ) (is : List Item) → Within us vs → RecordsNeed types us is → RecordsNeed types vs is
records_within types us vs [] within h = h
records_within types us vs (i ∷ is) within h = (record_within types us vs i.owned within h.0, records_within types us vs is within h.1)

pub records_older : (types : List TypeForm) (ss : Scopes) (ms : List Master) → RecordsOpen types ss ms → RecordsOpen types (older ss) (older ms)
records_older types [] ms h = h
records_older types (us ∷ []) [] h = h
records_older types (us ∷ ws ∷ ss) [] h = h
records_older types (us ∷ ss) (m ∷ ms) h = h.1

-- Each master opens all the collections that it has.
abbrev pub Covers : (ss vs : Scopes) → Type 0
Covers [] [] = Unit {0}
Covers [] (ws ∷ vs) = ⊥
Covers (us ∷ ss) [] = ⊥
Covers (us ∷ ss) (ws ∷ vs) = ((t : ℕ) → times t ws ≤ times t us) × Covers ss vs

pub covers_older : (ss vs : Scopes) → Covers ss vs → Covers (older ss) (older vs)
covers_older [] [] h = h
covers_older [] (ws ∷ vs) h = absurd h
covers_older (us ∷ ss) [] h = absurd h
covers_older (us ∷ ss) (ws ∷ vs) h = h.1

pub covers_fewer : (t : ℕ) (ss vs : Scopes) → Covers ss vs → times t (all_of vs) ≤ times t (all_of ss)
covers_fewer t [] [] h = omega arith
covers_fewer t [] (ws ∷ vs) h = absurd h
covers_fewer t (us ∷ ss) [] h = absurd h
covers_fewer t (us ∷ ss) (ws ∷ vs) h =
    let own = h.0 t in
    let outer = covers_fewer t ss vs h.1 in
    let some = times_append t ws (all_of vs) in
    let all = times_append t us (all_of ss) in
    omega (arith, own, outer, some, all)

-- The newest item of a master goes.
covers_shorter : (ss : Scopes) (ms : List Master) → Covers ss (scopes ms) → Covers ss (scopes (shorter ms))
covers_shorter [] [] h = h
covers_shorter [] (m ∷ ms) h = absurd h
covers_shorter (us ∷ ss) [] h = absurd h
covers_shorter (us ∷ ss) (m ∷ ms) h = (λ t. let less = fewer_opened t m.items in let own = h.0 t in omega (arith, less, own), h.1)

records_shorter : (types : List TypeForm) (ss : Scopes) (m : ℕ) (item : Item) (items : List Item) (ms : List Master) → RecordsOpen types ss (record { number = m; items = item ∷ items } ∷ ms) → RecordsOpen types ss (record { number = m; items = items } ∷ ms)
records_shorter types [] m item items ms h = h
records_shorter types (us ∷ ss) m item items ms h = (h.0.1, h.1)

-- No access type is opened twice.
abbrev pub Lone : Scopes → Type 0
Lone ss = (t : ℕ) → times t (all_of ss) ≤ 1

pub lone_older : (ss : Scopes) → Lone ss → Lone (older ss)
lone_older ss lone t = let all = lone t in let less = fewer_older t ss in omega (arith, all, less)

-- Masters that have created all their collections. Some that are being left may have lost some since.
pub record Whole (types : List TypeForm) (ss : Scopes) (ms : List Master) (heap : List Object) : Type 0 where
  pub lone : Lone ss
  pub needs : AreOpen types ss
  pub housed : Housed heap (items_of ms)
  pub fit : ItemsFit types (items_of ms)
  pub records : RecordsOpen types ss ms
  pub covers : Covers ss (scopes ms)
  pub layered : AllLayered ms
  pub known : (t : ℕ) → 1 ≤ times t (all_of ss) → is_access types t ≡ true

-- What a master lacks are collections of access types, and what the components of their objects name lies in collections that are open, too.
pub record IsSpare (types : List TypeForm) (lacks there : List ℕ) : Type 0 where
  pub known : (t : ℕ) → 1 ≤ times t lacks → is_access types t ≡ true
  pub needs : NeedsOpen types lacks there

-- Masters of which the innermost one has these declarations left to elaborate. It opens the collections of `there`, with those that were open
-- around it: they are those that it has, those that are left, those that it lacks, and those of the outer masters. No object lies in one of its own yet, and it
-- owns none.
pub record Growing (types : List TypeForm) (main : Option (List ℕ)) (ss : Scopes) (m : Master) (rest : List Master) (heap : List Object) (ds : List DeclarationForm) (there : List ℕ) : Type 0 where
  pub lacks : List ℕ
  pub lacking : Lacks main lacks
  pub spare : IsSpare types lacks there
  pub first : collections_first ds ≡ true
  pub once : (t : ℕ) → times t there ≤ 1
  pub all : (t : ℕ) → times t there ≡ times t (collected ds) + (times t lacks + (times t (opened m.items) + times t (all_of ss)))
  pub left : NeedsOpen types (collected ds) there
  pub here : NeedsOpen types (opened m.items) there
  pub outer : AreOpen types ss
  pub housed : Housed heap (items_of rest)
  pub accesses : (t : ℕ) → 1 ≤ times t (collected ds) → is_access types t ≡ true
  pub fit : ItemsFit types (items_of (m ∷ rest))
  pub own : RecordsNeed types there m.items
  pub records : RecordsOpen types ss rest
  pub coming : RecordsNest types there ds
  pub covers : Covers ss (scopes rest)
  pub bare : Bare m.items
  pub layered : AllLayered rest
  pub known : (t : ℕ) → 1 ≤ times t (all_of ss) → is_access types t ≡ true

-- A part that is beginning.
pub record Begins (types : List TypeForm) (callees : Callees) (main : Option (List ℕ)) (calling : Bool) (s : State) : Type 0 where
  pub ss : Scopes
  pub m : Master
  pub rest : List Master
  pub ds : List DeclarationForm
  pub fs : StmtsForm
  pub hs : HandlersForm
  pub k : List (Frame Value)
  pub there : List ℕ
  pub masters : s.masters ≡ m ∷ rest
  pub control : s.control ≡ frame.Elaborates ds fs hs ∷ k
  pub runs : s.mode ≡ Running
  pub growing : Growing types main ss m rest s.heap ds there
  pub statements : StatementsNest types callees there fs
  pub handlers : HandlersNest types callees there hs
  pub nests : NestsOutside types callees main calling there ss (scopes rest) k

-- A state of a run: what is left to do nests, whether or not a jump is on its way; or a part begins; or the innermost master is being left; or nothing is left
-- to do, since the master of the main procedure has been left.
pub data Nested (types : List TypeForm) (callees : Callees) (main : Option (List ℕ)) (calling : Bool) (s : State) : Type 0 where
  standing : (ss : Scopes) → Whole types ss s.masters s.heap → Nests types callees main calling ss (scopes s.masters) s.control → Nested types callees main calling s
  beginning : Begins types callees main calling s → Nested types callees main calling s
  parting : (ss : Scopes) → Whole types ss s.masters s.heap → s.mode ≡ Running → Goes types callees main calling ss (scopes s.masters) s.control → Nested types callees main calling s
  resting : (ss : Scopes) → Whole types ss s.masters s.heap → scopes s.masters ≡ [] → s.control ≡ [] → Nested types callees main calling s

-- What masters have opened in such a state.
abbrev pub scopes_in : (types : List TypeForm) (callees : Callees) (main : Option (List ℕ)) (calling : Bool) (s : State) → Nested types callees main calling s → Scopes
scopes_in types callees main calling s (standing ss w n) = ss
scopes_in types callees main calling s (beginning b) = b.ss
scopes_in types callees main calling s (parting ss w runs goes) = ss
scopes_in types callees main calling s (resting ss w none ends) = ss

-- How masters change.
pub whole_declared : (types : List TypeForm) (ss : Scopes) (number x : ℕ) (ms : List Master) (heap : List Object) → Whole types ss ms heap → Whole types ss (owning (record { number = number; owned = declared x }) ms) heap
whole_declared types ss number x ms heap w = record {
  lone = w.lone;
  needs = w.needs;
  housed = housed_owning heap (record { number = number; owned = declared x }) ms w.housed;
  fit = fit_owning types (record { number = number; owned = declared x }) ms tt w.fit;
  records = records_declared ss ms w.records;
  covers = rw (scopes_declared number x ms) w.covers;
  layered = layered_owning (record { number = number; owned = declared x }) ms refl w.layered;
  known = w.known;
}
  where
    records_declared : (us : Scopes) (xs : List Master) → RecordsOpen types us xs → RecordsOpen types us (owning (record { number = number; owned = declared x }) xs)
    records_declared [] xs h = tt
    records_declared (us ∷ uss) [] h = h
    records_declared (us ∷ uss) (m ∷ xs) h = ((tt, h.0), h.1)

-- A record object is one item more, which is the home of the object.
pub whole_recorded : (types : List TypeForm) (ss : Scopes) (number t : ℕ) (ms : List Master) (heap : List Object) (cell : Cell Value) (around : List ℕ) → (main : Option (List ℕ)) → OwnsAll main ss (scopes ms) → cell.home.item ≡ number → cell.access ≡ t → cell.home.pool ≡ None → Alike around (all_of ss) → is_access types t ≡ false → are_open around (reached_components types t) ≡ true → Whole types ss ms heap → Whole types ss (owning (record { number = number; owned = record_object t }) ms) (heap ++ new_object cell ∷ [])
whole_recorded types [] number t ms heap cell around main some home access pool alike never opens w = absurd some
whole_recorded types (us ∷ ss) number t [] heap cell around main some home access pool alike never opens w = absurd some
whole_recorded types (us ∷ ss) number t (m ∷ ms) heap cell around main some home access pool alike never opens w = record {
  lone = w.lone;
  needs = w.needs;
  housed = housed_new heap cell (items_of (owning (record { number = number; owned = record_object t }) (m ∷ ms))) (inl (sym home, ap Some (sym access), sym pool))
      (housed_owning heap (record { number = number; owned = record_object t }) (m ∷ ms) w.housed);
  fit = (never, w.fit);
  records = ((open_within around (all_of (us ∷ ss)) (reached_components types t) (λ u le. let same = alike u in omega (arith, same, le)) opens, w.records.0), w.records.1);
  covers = w.covers;
  layered = layered_owning (record { number = number; owned = record_object t }) (m ∷ ms) refl w.layered;
  known = w.known;
}

pub nests_recorded : (types : List TypeForm) (callees : Callees) (main : Option (List ℕ)) (calling : Bool) (ss : Scopes) (number t : ℕ) (ms : List Master) (k : List (Frame Value)) → Nests types callees main calling ss (scopes ms) k → Nests types callees main calling ss (scopes (owning (record { number = number; owned = record_object t }) ms)) k
nests_recorded types callees main calling ss number t ms k n = rw (scopes_recorded number t ms) n

pub nests_declared : (types : List TypeForm) (callees : Callees) (main : Option (List ℕ)) (calling : Bool) (ss : Scopes) (number x : ℕ) (ms : List Master) (k : List (Frame Value)) → Nests types callees main calling ss (scopes ms) k → Nests types callees main calling ss (scopes (owning (record { number = number; owned = declared x }) ms)) k
nests_declared types callees main calling ss number x ms k n = rw (scopes_declared number x ms) n

pub whole_heap : (types : List TypeForm) (ss : Scopes) (ms : List Master) (before after : List Object) → Housed after (items_of ms) → Whole types ss ms before → Whole types ss ms after
whole_heap types ss ms before after housed w = record { lone = w.lone; needs = w.needs; housed = housed; fit = w.fit; records = w.records; covers = w.covers; layered = w.layered; known = w.known }

-- The newest item of the innermost master goes, if it houses no object any more.
pub whole_shorter : (types : List TypeForm) (ss : Scopes) (m : ℕ) (item : Item) (items : List Item) (ms : List Master) (heap : List Object) → IsEmpty heap item item.owned → Whole types ss (record { number = m; items = item ∷ items } ∷ ms) heap → Whole types ss (shorter (record { number = m; items = item ∷ items } ∷ ms)) heap
whole_shorter types ss m item items ms heap empty w = record {
  lone = w.lone;
  needs = w.needs;
  housed = housed_shorter heap m item items ms empty w.housed;
  fit = w.fit.1;
  records = records_shorter types ss m item items ms w.records;
  covers = covers_shorter ss (record { number = m; items = item ∷ items } ∷ ms) w.covers;
  layered = (w.layered.0.1, w.layered.1);
  known = w.known;
}

-- The innermost master has been left.
pub whole_left : (types : List TypeForm) (ss : Scopes) (m : ℕ) (ms : List Master) (heap : List Object) → Whole types ss (record { number = m; items = [] } ∷ ms) heap → Whole types (older ss) ms heap
whole_left types ss m ms heap w = record {
  lone = lone_older ss w.lone;
  needs = open_older types ss w.needs;
  housed = w.housed;
  fit = w.fit;
  records = records_older types ss (record { number = m; items = [] } ∷ ms) w.records;
  covers = covers_older ss (scopes (record { number = m; items = [] } ∷ ms)) w.covers;
  layered = w.layered.1;
  known = λ t le. w.known t (let less = fewer_older t ss in omega (arith, less, le));
}

-- A part begins.
once_there : (us vs : List ℕ) (t : ℕ) → (times t us ≡ 0 → times t (us ++ vs) ≤ 1) → times t us ≤ 1 → (1 ≤ times t us → times t vs ≡ 0) → times t (us ++ vs) ≤ 1
once_there us vs t none le away = split (times t us) refl
  where
    split : (n : ℕ) → times t us ≡ n → times t (us ++ vs) ≤ 1
    split zero is = none is
    split (suc n) is = let apart = away (omega (arith, is)) in let all = times_append t us vs in omega (arith, all, apart, le)

pub lacks_none : (main : Option (List ℕ)) → Lacks main []
lacks_none None = tt
lacks_none (Some main) = refl

-- It opens these, and as if it opened some that are not open.
pub grows_lacking : (types : List TypeForm) (main : Option (List ℕ)) (ss : Scopes) (number : ℕ) (rest : List Master) (heap : List Object) (ds : List DeclarationForm) (around lacks : List ℕ)
    → Lacks main lacks → IsSpare types lacks (collected ds ++ around) → ((t : ℕ) → times t lacks + times t (all_of ss) ≤ 1) → PartNests types around ds → Alike around (lacks ++ all_of ss) → Whole types ss rest heap
    → Growing types main ss (record { number = number; items = [] }) rest heap ds (collected ds ++ around)
grows_lacking types main ss number rest heap ds around lacks lacking spare apart part alike w = record {
  lacks = lacks;
  lacking = lacking;
  spare = spare;
  first = part.first;
  once = λ t. once_there (collected ds) around t
      (λ none.
      let all = times_append t (collected ds) around in
      let same = alike t in
      let both = times_append t lacks (all_of ss) in
      let once = apart t in
      omega (arith, all, same, both, once, none))
      (part.once t) (part.away t);
  all = λ t.
      let all = times_append t (collected ds) around in
      let same = alike t in
      let both = times_append t lacks (all_of ss) in
      omega (arith, all, same, both);
  left = part.needs;
  here = λ t le. absurd (omega (arith, le));
  outer = w.needs;
  housed = w.housed;
  accesses = part.accesses;
  fit = w.fit;
  own = tt;
  records = w.records;
  coming = part.records;
  covers = w.covers;
  bare = tt;
  layered = w.layered;
  known = w.known;
}

-- It opens these alone.
pub grows : (types : List TypeForm) (main : Option (List ℕ)) (ss : Scopes) (number : ℕ) (rest : List Master) (heap : List Object) (ds : List DeclarationForm) (around : List ℕ) → PartNests types around ds → Alike around (all_of ss) → Whole types ss rest heap → Growing types main ss (record { number = number; items = [] }) rest heap ds (collected ds ++ around)
grows types main ss number rest heap ds around part alike w =
    grows_lacking types main ss number rest heap ds around [] (lacks_none main)
    (record { known = λ t le. absurd (omega (arith, le)); needs = λ t le. absurd (omega (arith, le)) }) (λ t. let once = w.lone t in omega (arith, once)) part alike w

-- What it opens, once all its collections have been created.
abbrev pub opens : (lacks : List ℕ) → Master → List ℕ
opens lacks m = lacks ++ opened m.items

pub owns_grown : (main : Option (List ℕ)) (lacks : List ℕ) (m : Master) (ss : Scopes) (rest : List Master) → Lacks main lacks → OwnsAll main (opens lacks m ∷ ss) (scopes (m ∷ rest))
owns_grown None lacks m ss rest lacking = tt
owns_grown (Some main) lacks m ss rest lacking = λ t. rw lacking refl

-- All its collections have been created.
pub grown : (types : List TypeForm) (main : Option (List ℕ)) (ss : Scopes) (m : Master) (rest : List Master) (heap : List Object) (ds : List DeclarationForm) (there : List ℕ) → collected ds ≡ [] → (g : Growing types main ss m rest heap ds there) → Whole types (opens g.lacks m ∷ ss) (m ∷ rest) heap × Alike there (all_of (opens g.lacks m ∷ ss))
grown types main ss m rest heap ds there none g = (
  record {
    lone = lone;
    needs = (λ t le. open_within there (opens g.lacks m ++ all_of ss) (reached_components types t) within (needs_by t (times t g.lacks) refl le), g.outer);
    housed = housed_after heap m.items (items_of rest) g.housed;
    fit = g.fit;
    records = (records_within types there (opens g.lacks m ++ all_of ss) m.items within g.own, g.records);
    covers = (λ t. let both = times_append t g.lacks (opened m.items) in omega (arith, both), g.covers);
    layered = (bare_layered m.items g.bare, g.layered);
    known = known;
  },
  alike,
)
  where
    alike : Alike there (all_of (opens g.lacks m ∷ ss))
    alike t =
        let all = g.all t in
        let nothing : times t (collected ds) ≡ 0 = ap (times t) none in
        let sum = times_append t (opens g.lacks m) (all_of ss) in
        let both = times_append t g.lacks (opened m.items) in
        omega (arith, all, nothing, sum, both)

    lone : Lone (opens g.lacks m ∷ ss)
    lone t = let same = alike t in let once = g.once t in omega (arith, same, once)

    within : Within there (opens g.lacks m ++ all_of ss)
    within t le = let same = alike t in omega (arith, same, le)

    needs_by : (t n : ℕ) → times t g.lacks ≡ n → 1 ≤ times t (opens g.lacks m) → are_open there (reached_components types t) ≡ true
    needs_by t zero is le = g.here t (let both = times_append t g.lacks (opened m.items) in omega (arith, both, is, le))
    needs_by t (suc n) is le = g.spare.needs t (omega (arith, is))

    known_by : (t n k : ℕ) → times t (opened m.items) ≡ n → times t g.lacks ≡ k → 1 ≤ times t (opens g.lacks m ++ all_of ss) → is_access types t ≡ true
    known_by t zero zero is lack le =
        g.known t
        (let sum = times_append t (opens g.lacks m) (all_of ss) in
        let both = times_append t g.lacks (opened m.items) in
        omega (arith, sum, both, is, lack, le))
    known_by t zero (suc k) is lack le = g.spare.known t (omega (arith, lack))
    known_by t (suc n) k is lack le = opened_fits types t m.items (fit_before types m.items (items_of rest) g.fit) (omega (arith, is))

    known : (t : ℕ) → 1 ≤ times t (all_of (opens g.lacks m ∷ ss)) → is_access types t ≡ true
    known t le = known_by t (times t (opened m.items)) (times t g.lacks) refl refl le
