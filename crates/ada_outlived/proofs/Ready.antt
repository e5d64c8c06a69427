-- What the state of a run says of its next step: what a record object needs that is created now is open now.

use Rattle.std.proofs.Common.{◌≡◌, ℕ, zero, suc, Some, ◌+◌, ◌≤◌, Bool, true, false, List, [], ◌∷◌, ◌++◌, arith, refl, sym, ap, ◌∙◌, subst, inl, inr}
use Rattle.std.specs.List.{list_all}
use Rattle.ada_program.specs.Form.{DeclarationForm, creates_pool, collects, declares, declares_record}
use Rattle.ada_program.specs.ProgramForm.{TypeForm, ProgramForm}
use Rattle.ada_program.specs.WellFormed.{reached_components, is_object}
use Rattle.ada_program.specs.Nested.{Callees, collected, are_open, callees_of}
use Rattle.ada_meaning.specs.declared.state.Value.{Value}
use Rattle.ada_meaning.specs.Frame.{Frame}
use Rattle.ada_meaning.specs.Frame as frame
use Rattle.ada_meaning.specs.State.{Master}
use Rattle.ada_meaning.specs.Step.{older}
use Rattle.ada_meaning.specs.Named.{Object, State}
use Rattle.ada_scopes.proofs.Counts.{times, times_append, open_within, opened, Scopes, scopes, all_of}
use Rattle.ada_scopes.proofs.Layers.{AllLayered}
use Rattle.ada_scopes.proofs.Texts.{RecordsNest}
use Rattle.ada_scopes.proofs.Control.{Alike, OwnsAll, Nests, NestsOutside, Goes, Covers, covers_older, Growing, Begins, Nested, standing, beginning, parting, resting}
use Rattle.ada_scopes.proofs.Runs.{calls_in, ScopedSo}
use Rattle.ada_outlived.proofs.Records.{CanOwn}
use Rattle.ada_outlived.proofs.Control.{inside, Anywhere, Free, PartReady, FrameReady}

-- Where masters have opened something, one is entered.
nothing_opened : (t : ℕ) (ss vs : Scopes) → Covers ss vs → vs ≡ [] → 1 ≤ times t (all_of ss) → ⊥
nothing_opened t [] vs covers is le = omega (arith, le)
nothing_opened t (us ∷ ss) [] covers is le = covers
nothing_opened t (us ∷ ss) (ws ∷ vs) covers is le = cc is

-- What the innermost master has opened, which has lost nothing, or an outer one.
owned_there : (main : List ℕ) (t : ℕ) (ss vs : Scopes) → OwnsAll (Some main) ss vs → (1 ≤ times t (all_of (older ss)) → 1 ≤ times t (all_of (older vs))) → 1 ≤ times t (all_of ss) → 1 ≤ times t (all_of vs)
owned_there main t [] vs owns later le = absurd owns
owned_there main t (us ∷ ss) [] owns later le = absurd owns
owned_there main t (us ∷ ss) (ws ∷ vs) owns later le = split (times t us) refl
  where
    split : (n : ℕ) → times t us ≡ n → 1 ≤ times t (ws ++ all_of vs)
    split zero none =
        let all = times_append t us (all_of ss) in
        let more = later (omega (arith, all, none, le)) in
        let sum = times_append t ws (all_of vs) in
        omega (arith, sum, more)
    split (suc n) some = let same = owns t in let sum = times_append t ws (all_of vs) in omega (arith, same, sum, some)

-- An access type is among those that a part has created collections of, or is open around it.
part_there : (t : ℕ) (own outer vs : List ℕ) → (1 ≤ times t outer → 1 ≤ times t vs) → 1 ≤ times t own + times t outer → 1 ≤ times t (own ++ vs)
part_there t own outer vs later le = split (times t own) refl
  where
    split : (n : ℕ) → times t own ≡ n → 1 ≤ times t (own ++ vs)
    split zero none = let more = later (omega (arith, none, le)) in let sum = times_append t own vs in omega (arith, sum, more)
    split (suc n) some = let sum = times_append t own vs in omega (arith, sum, some)

-- A part that has come to its objects has created all its collections.
all_objects : (ds : List DeclarationForm) → list_all is_object ds ≡ true → collected ds ≡ []
all_objects [] is = refl
all_objects (creates_pool pool ∷ ds) is = absurd (cc)
all_objects (collects access ∷ ds) is = absurd (cc)
all_objects (declares x right ∷ ds) is = all_objects ds is
all_objects (declares_record x t initial ∷ ds) is = all_objects ds is

module _ (types : List TypeForm) (callees : Callees) (main : List ℕ) (calling : Bool) where
  -- Behind a master too, where nothing is left to do there.
  outside_there : (there : List ℕ) (t : ℕ) (ss vs : Scopes) (k : List (Frame Value)) → Covers ss vs → (Nests types callees (Some main) calling ss vs k → 1 ≤ times t (all_of vs)) → NestsOutside types callees (Some main) calling there ss vs k → 1 ≤ times t (all_of ss) → 1 ≤ times t (all_of vs)
  outside_there there t ss vs k covers nests (inl none) le = absurd (nothing_opened t ss vs covers none.1 le)
  outside_there there t ss vs k covers nests (inr nest) le = nests nest

  -- Where no body of a Finalize waits, masters that are not being left have all that they have opened.
  all_there : (t : ℕ) (ss vs : Scopes) (k : List (Frame Value)) → inside k ≡ false → Covers ss vs → Nests types callees (Some main) calling ss vs k → 1 ≤ times t (all_of ss) → 1 ≤ times t (all_of vs)
  all_there t ss vs [] none covers n le = absurd n
  all_there t ss vs (frame.Elaborates ds fs hs ∷ k) none covers n le =
      owned_there main t ss vs n.0.2
      (λ more. outside_there (all_of ss) t (older ss) (older vs) k (covers_older ss vs covers)
      (λ nest. all_there t (older ss) (older vs) k none (covers_older ss vs covers) nest more) n.1 more) le
  all_there t ss vs (frame.Closes ∷ k) none covers n le =
      owned_there main t ss vs n.0
      (λ more. outside_there (all_of ss) t (older ss) (older vs) k (covers_older ss vs covers)
      (λ nest. all_there t (older ss) (older vs) k none (covers_older ss vs covers) nest more) n.1 more) le
  all_there t ss vs (frame.Leaves mode ∷ k) none covers n le = absurd n.0
  all_there t ss vs (frame.Confines ∷ k) none covers n le = absurd (cc none)
  all_there t ss vs (f ∷ k) none covers n le = all_there t ss vs k none covers n.1 le

  -- What a record object needs was open where it was written: it is open now, or it needs nothing.
  can_by : (t : ℕ) (ss : Scopes) (ms : List Master) (k : List (Frame Value)) (around : List ℕ) → Alike around (all_of ss) → are_open around (reached_components types t) ≡ true → Anywhere (inside k) (λ us. are_open us (reached_components types t) ≡ true) → Covers ss (scopes ms) → Nests types callees (Some main) calling ss (scopes ms) k → (within : Bool) → inside k ≡ within → CanOwn types t ms
  can_by t ss ms k around alike opens free covers n true is = free is (all_of (scopes ms))
  can_by t ss ms k around alike opens free covers n false is =
      open_within around (all_of (scopes ms)) (reached_components types t)
      (λ u le. all_there u ss (scopes ms) k is covers n (let same = alike u in omega (arith, same, le))) opens

  ready_part : (ss : Scopes) (ms : List Master) (k : List (Frame Value)) (around : List ℕ) (ds : List DeclarationForm) → Alike around (all_of ss) → RecordsNest types around ds → Anywhere (inside k) (λ us. RecordsNest types us ds) → Covers ss (scopes ms) → Nests types callees (Some main) calling ss (scopes ms) k → PartReady types ms ds
  ready_part ss ms k around [] alike nest free covers n = tt
  ready_part ss ms k around (creates_pool pool ∷ ds) alike nest free covers n = tt
  ready_part ss ms k around (collects access ∷ ds) alike nest free covers n = tt
  ready_part ss ms k around (declares x right ∷ ds) alike nest free covers n = tt
  ready_part ss ms k around (declares_record x t initial ∷ ds) alike nest free covers n =
      can_by t ss ms k around alike nest.1 (λ within us. (free within us).1) covers n (inside k) refl

  ready_standing : (ss : Scopes) (ms : List Master) (f : Frame Value) (k : List (Frame Value)) → Covers ss (scopes ms) → Nests types callees (Some main) calling ss (scopes ms) (f ∷ k) → Free types callees (f ∷ k) → FrameReady types ms f
  ready_standing ss ms (frame.Elaborates ds fs hs) k covers n free =
      ready_part ss ms (frame.Elaborates ds fs hs ∷ k) n.0.1.0 ds n.0.1.1 n.0.1.2.2 (λ within us. (free.0 within us).2) covers n
  ready_standing ss ms (frame.DeclaresRecord x t) k covers n free =
      can_by t ss ms (frame.DeclaresRecord x t ∷ k) n.0.0.0 n.0.0.1 n.0.0.2.1 free.0 covers n (inside k) refl
  ready_standing ss ms (frame.Leaves mode) k covers n free = absurd n.0
  ready_standing ss ms f k covers n free = tt

  ready_parting : (ss : Scopes) (ms : List Master) (f : Frame Value) (k : List (Frame Value)) → AllLayered ms → Goes types callees (Some main) calling ss (scopes ms) (f ∷ k) → FrameReady types ms f
  ready_parting ss ms (frame.Leaves mode) k layered goes = layered
  ready_parting ss ms (frame.Elaborates ds fs hs) k layered goes = absurd goes
  ready_parting ss ms (frame.DeclaresRecord x t) k layered goes = absurd goes
  ready_parting ss ms f k layered goes = tt

  -- A part that begins comes to its first object.
  begins_by : (ss : Scopes) (m : Master) (rest : List Master) (heap : List Object) (x t : ℕ) (ds all : List DeclarationForm) (there : List ℕ) (k : List (Frame Value)) → collected all ≡ [] → Growing types (Some main) ss m rest heap all there → are_open there (reached_components types t) ≡ true → Anywhere (inside k) (λ us. are_open us (reached_components types t) ≡ true) → NestsOutside types callees (Some main) calling there ss (scopes rest) k → (within : Bool) → inside k ≡ within → CanOwn types t (m ∷ rest)
  begins_by ss m rest heap x t ds all there k none g opens free n true is = free is (all_of (scopes (m ∷ rest)))
  begins_by ss m rest heap x t ds all there k none g opens free n false is =
      open_within there (all_of (scopes (m ∷ rest))) (reached_components types t) (λ u le. own u le) opens
    where
      own : (u : ℕ) → 1 ≤ times u there → 1 ≤ times u (opened m.items ++ all_of (scopes rest))
      own u le =
          let sum = g.all u in
          let nothing : times u (collected all) ≡ 0 = ap (times u) none in
          let lacking : times u g.lacks ≡ 0 = ap (times u) g.lacking in
          part_there u (opened m.items) (all_of ss) (all_of (scopes rest))
          (λ more. outside_there there u ss (scopes rest) k g.covers (λ nest. all_there u ss (scopes rest) k is g.covers nest more) n more)
          (omega (arith, sum, nothing, lacking, le))

  ready_begins : (ss : Scopes) (m : Master) (rest : List Master) (heap : List Object) (ds : List DeclarationForm) (there : List ℕ) (k : List (Frame Value)) → Growing types (Some main) ss m rest heap ds there → Anywhere (inside k) (λ us. RecordsNest types us ds) → NestsOutside types callees (Some main) calling there ss (scopes rest) k → PartReady types (m ∷ rest) ds
  ready_begins ss m rest heap [] there k g free n = tt
  ready_begins ss m rest heap (creates_pool pool ∷ ds) there k g free n = tt
  ready_begins ss m rest heap (collects access ∷ ds) there k g free n = tt
  ready_begins ss m rest heap (declares x right ∷ ds) there k g free n = tt
  ready_begins ss m rest heap (declares_record x t initial ∷ ds) there k g free n =
      begins_by ss m rest heap x t ds (declares_record x t initial ∷ ds) there k (all_objects ds g.first) g g.coming.1 (λ within us. (free within us).1) n (inside k) refl

  ready_beginning : (s : State) (b : Begins types callees (Some main) calling s) → Free types callees s.control → (f : Frame Value) (rest : List (Frame Value)) → s.control ≡ f ∷ rest → FrameReady types s.masters f
  ready_beginning s b free f rest top =
      let own : Free types callees (frame.Elaborates b.ds b.fs b.hs ∷ b.k) = subst (λ (k : List (Frame Value)). Free types callees k) b.control free in
      let part = ready_begins b.ss b.m b.rest s.heap b.ds b.there b.k b.growing (λ within us. (own.0 within us).2) b.nests in
      let one : frame.Elaborates b.ds b.fs b.hs ∷ b.k ≡ f ∷ rest = sym b.control ∙ top in
      let same : frame.Elaborates b.ds b.fs b.hs ≡ f = cc in
      subst (λ (g : Frame Value). FrameReady types s.masters g) same (subst (λ (ms : List Master). PartReady types ms b.ds) (sym b.masters) part)

  ready_by : (s : State) → Nested types callees (Some main) calling s → Free types callees s.control → (f : Frame Value) (rest : List (Frame Value)) → s.control ≡ f ∷ rest → FrameReady types s.masters f
  ready_by s (standing ss w n) free f rest top =
      ready_standing ss s.masters f rest w.covers (subst (λ (k : List (Frame Value)). Nests types callees (Some main) calling ss (scopes s.masters) k) top n)
      (subst (λ (k : List (Frame Value)). Free types callees k) top free)
  ready_by s (beginning b) free f rest top = ready_beginning s b free f rest top
  ready_by s (resting ss w none ends) free f rest top = absurd (cc (ends, top))
  ready_by s (parting ss w runs goes) free f rest top =
      ready_parting ss s.masters f rest w.layered (subst (λ (k : List (Frame Value)). Goes types callees (Some main) calling ss (scopes s.masters) k) top goes)

-- Each state of a run is ready for its next step.
pub is_ready : (p : ProgramForm) (s : State) → ScopedSo true p s → Free p.types (callees_of p) s.control → (f : Frame Value) (rest : List (Frame Value)) → s.control ≡ f ∷ rest → FrameReady p.types s.masters f
is_ready p s scoped free = ready_by p.types (callees_of p) (collected p.declarations) (calls_in p) s scoped.nested free
