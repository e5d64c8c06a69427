-- What is left to do behind still bodies nests where none of the types is open that these declare, and its masters are whole without them.

use Rattle.std.proofs.Common.{◌≡◌, inl, inr, ℕ, ◌+◌, ◌≤◌, ◌==◌, Bool, true, false, List, [], ◌∷◌, ◌++◌, None, arith, refl, subst}
use Rattle.std.specs.List.{slice_get}
use Rattle.std.proofs.lemmas.Bool.{eqb-true}
use Rattle.ada_program.specs.Form.{StmtsForm}
use Rattle.ada_program.specs.Nested.{Callees, call_nests, are_open}
use Rattle.ada_program.specs.ProgramForm.{TypeForm, BodyForm}
use Rattle.ada_program.specs.WellFormed.{reached_components}
use Rattle.ada_meaning.specs.declared.state.Value.{Value}
use Rattle.ada_meaning.specs.Frame.{Frame}
use Rattle.ada_meaning.specs.Frame as frame
use Rattle.ada_meaning.specs.State.{Owned, declared, collection, record_object, storage_pool, Item, Master}
use Rattle.ada_meaning.specs.Step.{older}
use Rattle.ada_meaning.specs.Named.{Object}
use Rattle.ada_scopes.proofs.Counts.{one, times, times_append, opened_by, opened, Scopes, scopes, all_of}
use Rattle.ada_scopes.proofs.Texts.{StatementsNest, BodiesNest}
use Rattle.ada_scopes.proofs.Control.{Alike, Where, OwnsAll, Outside, Nests, Goes, AreOpen, RecordNeeds, RecordsNeed, RecordsOpen, Covers, Whole}
use Rattle.ada_still.specs.Still.{stmts_keep, bounds_without}
use Rattle.ada_still.specs.Law.{IsOther, AreOther, NoneOpen}
use Rattle.ada_still.specs.Beside.{IsWithout, are_other_kinds}
use Rattle.ada_still.proofs.Sits.{not_true, Sits}
use Rattle.ada_still.proofs.Without.{Others, without, others_without, others_fewer, is_without, open_without, records_without, statements_without, branches_without, handlers_without}

-- What masters have opened, without these types.
abbrev pub without_all : (own : ℕ → Bool) → Scopes → Scopes
without_all own [] = []
without_all own (us ∷ ss) = without own us ∷ without_all own ss

module _ (own : ℕ → Bool) where
  pub all_without : (ss : Scopes) → Others own (all_of ss) (all_of (without_all own ss))
  all_without [] = record { other = λ t is. refl; mine = λ t is. refl }
  all_without (us ∷ ss) =
      let first = others_without own us in
      let rest = all_without ss in
      record {
        other = λ t is.
            let one_is = first.other t is in
            let more = rest.other t is in
            let all = times_append t us (all_of ss) in
            let fewer = times_append t (without own us) (all_of (without_all own ss)) in
            omega (arith, one_is, more, all, fewer);
        mine = λ t is.
            let one_is = first.mine t is in
            let more = rest.mine t is in
            let fewer = times_append t (without own us) (all_of (without_all own ss)) in
            omega (arith, one_is, more, fewer);
      }

  older_without : (ss : Scopes) → without_all own (older ss) ≡ older (without_all own ss)
  older_without [] = refl
  older_without (us ∷ ss) = refl

  alike_others : (around us vs : List ℕ) → Alike around us → Others own us vs → Others own around vs
  alike_others around us vs alike others = record {
    other = λ t is. let same = alike t in let kept = others.other t is in omega (arith, same, kept);
    mine = others.mine;
  }

  owns_without : (ss vs : Scopes) → OwnsAll None ss vs → OwnsAll None (without_all own ss) vs
  owns_without [] vs owns = owns
  owns_without (us ∷ ss) [] owns = owns
  owns_without (us ∷ ss) (ws ∷ vs) owns = tt

  -- No collection among such items is of these types.
  items_none : (is : List Item) → AreOther own is → (t : ℕ) → own t ≡ true → times t (opened is) ≡ 0
  items_none [] other t mine = refl
  items_none (i ∷ is) other t mine = by i.owned other.0 (items_none is other.1 t mine)
    where
      none : (access : ℕ) (same : Bool) → (access == t) ≡ same → own access ≡ false → times t (opened is) ≡ 0 → one same + times t (opened is) ≡ 0
      none access true same apart rest = let e = eqb-true access t same in absurd (cc (apart, mine, e))
      none access false same apart rest = omega (arith, rest)

      by : (owned : Owned) → IsOther own owned → times t (opened is) ≡ 0 → times t (opened_by owned (opened is)) ≡ 0
      by (declared x) apart rest = rest
      by (collection access pool) apart rest = none access (access == t) refl apart rest
      by (record_object u) apart rest = rest
      by (storage_pool declaration number) apart rest = rest

  covers_without : (ss : Scopes) (ms : List Master) → NoneOpen own ms → Covers ss (scopes ms) → Covers (without_all own ss) (scopes ms)
  covers_without [] [] none covers = covers
  covers_without [] (m ∷ ms) none covers = covers
  covers_without (us ∷ ss) [] none covers = covers
  covers_without (us ∷ ss) (m ∷ ms) none covers = (λ t. by t (own t) refl, covers_without ss ms none.1 covers.1)
    where
      by : (t : ℕ) (b : Bool) → own t ≡ b → times t (opened m.items) ≤ times t (without own us)
      by t true is = let nothing = items_none m.items none.0 t is in omega (arith, nothing)
      by t false is = let same = (others_without own us).other t is in let fewer = covers.0 t in omega (arith, same, fewer)

module _ (types : List TypeForm) (own : ℕ → Bool) (other_kinds : (t : ℕ) → own t ≡ false → are_other_kinds own (reached_components types t) ≡ true) where
  open_all : (ss : Scopes) → AreOpen types ss → AreOpen types (without_all own ss)
  open_all [] opens = tt
  open_all (us ∷ ss) opens = (λ t some. by t (own t) refl some, open_all ss opens.1)
    where
      by : (t : ℕ) (b : Bool) → own t ≡ b → 1 ≤ times t (without own us) → are_open (without own us ++ all_of (without_all own ss)) (reached_components types t) ≡ true
      by t true is some = let none = (others_without own us).mine t is in absurd (omega (arith, none, some))
      by t false is some =
          let same = (others_without own us).other t is in
          open_without own (us ++ all_of ss) (without own us ++ all_of (without_all own ss)) (reached_components types t) (all_without own (us ∷ ss)) (other_kinds t is)
          (opens.0 t (omega (arith, same, some)))

  record_need : (us vs : List ℕ) (owned : Owned) → Others own us vs → IsOther own owned → RecordNeeds types us owned → RecordNeeds types vs owned
  record_need us vs (declared x) others other needs = tt
  record_need us vs (collection access pool) others other needs = tt
  record_need us vs (record_object t) others other needs = open_without own us vs (reached_components types t) others (other_kinds t other) needs
  record_need us vs (storage_pool declaration number) others other needs = tt

  records_need : (us vs : List ℕ) (is : List Item) → Others own us vs → AreOther own is → RecordsNeed types us is → RecordsNeed types vs is
  records_need us vs [] others other needs = tt
  records_need us vs (i ∷ is) others other needs = (record_need us vs i.owned others other.0 needs.0, records_need us vs is others other.1 needs.1)

  records_all : (ss : Scopes) (ms : List Master) → NoneOpen own ms → RecordsOpen types ss ms → RecordsOpen types (without_all own ss) ms
  records_all [] ms none records = tt
  records_all (us ∷ ss) [] none records = tt
  records_all (us ∷ ss) (m ∷ ms) none records =
      (records_need (us ++ all_of ss) (without own us ++ all_of (without_all own ss)) m.items (all_without own (us ∷ ss)) none.0 records.0, records_all ss ms none.1 records.1)

  -- Masters that own none of these are whole without them.
  pub whole_without : (ss : Scopes) (ms : List Master) (heap : List Object) → NoneOpen own ms → Whole types ss ms heap → Whole types (without_all own ss) ms heap
  whole_without ss ms heap none w = record {
    lone = λ t. let fewer = others_fewer own (all_of ss) (all_of (without_all own ss)) (all_without own ss) t in let lone = w.lone t in omega (arith, fewer, lone);
    needs = open_all ss w.needs;
    housed = w.housed;
    fit = w.fit;
    records = records_all ss ms none w.records;
    covers = covers_without own ss ms none w.covers;
    layered = w.layered;
    known = λ t some. w.known t (let fewer = others_fewer own (all_of ss) (all_of (without_all own ss)) (all_without own ss) t in omega (arith, fewer, some));
  }

module _ (types : List TypeForm) (callees : Callees) (bodies : List BodyForm) (still own : ℕ → Bool) (calling : Bool) (nesting : BodiesNest types callees bodies)
    (other_kinds : (t : ℕ) → own t ≡ false → are_other_kinds own (reached_components types t) ≡ true)
    (call_without : (procedure : ℕ) (all others : List ℕ) → IsWithout own all others → call_nests (slice_get callees procedure) all ≡ true → call_nests (slice_get callees procedure) others ≡ true) where
  -- Behind the last frame of a master.
  outside_without : (ss vs : Scopes) (k : List (Frame Value))
      → (Nests types callees None calling (older ss) (older vs) k → Nests types callees None calling (without_all own (older ss)) (older vs) k)
      → Outside None (all_of ss) (older vs) k (Nests types callees None calling (older ss) (older vs) k)
      → Outside None (all_of (without_all own ss)) (older vs) k (Nests types callees None calling (older (without_all own ss)) (older vs) k)
  outside_without ss vs k again (inl none) = inl (none.0, none.1, tt)
  outside_without ss vs k again (inr nests) = inr (subst (λ (us : Scopes). Nests types callees None calling us (older vs) k) (older_without own ss) (again nests))

  -- It was written where these are open without the others.
  there_without : (ss : Scopes) (around : List ℕ) → Alike around (all_of ss) → Others own around (all_of (without_all own ss))
  there_without ss around alike = alike_others own around (all_of ss) (all_of (without_all own ss)) alike (all_without own ss)

  statements_there : (ss : Scopes) (fs : StmtsForm) → stmts_keep (bounds_without own) fs ≡ true → Where (all_of ss) (λ around. StatementsNest types callees around fs)
      → Where (all_of (without_all own ss)) (λ around. StatementsNest types callees around fs)
  statements_there ss fs keeps nest =
      (all_of (without_all own ss), (λ t. refl), statements_without types callees own other_kinds call_without nest.0 (all_of (without_all own ss)) fs (there_without ss nest.0 nest.1) keeps nest.2)

  mutual
    pub nests_without : (ss vs : Scopes) (k : List (Frame Value)) (ms : List Master) → Sits types bodies still own false k ms → Nests types callees None calling ss vs k
        → Nests types callees None calling (without_all own ss) vs k
    nests_without ss vs [] ms h n = n
    nests_without ss vs (frame.Elaborates ds fs hs ∷ k) [] h n = absurd h.1
    nests_without ss vs (frame.Elaborates ds fs hs ∷ k) (m ∷ ms) h n =
        let there = all_of (without_all own ss) in
        let others = there_without ss n.0.1.0 n.0.1.1 in (
          (
            n.0.0,
            (
              there,
              (λ t. refl),
              (
                statements_without types callees own other_kinds call_without n.0.1.0 there fs others h.0.1.0 n.0.1.2.0,
                handlers_without types callees own other_kinds call_without n.0.1.0 there hs others h.0.1.1 n.0.1.2.1,
                records_without types callees own other_kinds call_without n.0.1.0 there ds others h.0.0 n.0.1.2.2,
              ),
            ),
            owns_without own ss vs n.0.2,
          ),
          outside_without ss vs k (λ nests. nests_without (older ss) (older vs) k ms h.1.1 nests) n.1,
        )
    nests_without ss vs (frame.Closes ∷ k) [] h n = absurd h.1
    nests_without ss vs (frame.Closes ∷ k) (m ∷ ms) h n =
        (owns_without own ss vs n.0, outside_without ss vs k (λ nests. nests_without (older ss) (older vs) k ms h.1.1 nests) n.1)
    nests_without ss vs (frame.Leaves mode ∷ k) ms h n = absurd n.0
    nests_without ss vs (frame.Does fs ∷ k) ms h n =
        (statements_there ss fs h.0 n.0, nests_without ss vs k ms h.1 n.1)
    nests_without ss vs (frame.Decides fs branches ∷ k) ms h n = (
      (
        all_of (without_all own ss),
        (λ t. refl),
        (
          statements_without types callees own other_kinds call_without n.0.0 (all_of (without_all own ss)) fs (there_without ss n.0.0 n.0.1) h.0.0 n.0.2.0,
          branches_without types callees own other_kinds call_without n.0.0 (all_of (without_all own ss)) branches (there_without ss n.0.0 n.0.1) h.0.1 n.0.2.1,
        ),
      ),
      nests_without ss vs k ms h.1 n.1,
    )
    nests_without ss vs (frame.Repeats condition fs ∷ k) ms h n = (statements_there ss fs h.0 n.0, nests_without ss vs k ms h.1 n.1)
    nests_without ss vs (frame.Turns condition fs ∷ k) ms h n = (statements_there ss fs h.0 n.0, nests_without ss vs k ms h.1 n.1)
    nests_without ss vs (frame.Ranges x fs ∷ k) ms h n = (statements_there ss fs h.0 n.0, nests_without ss vs k ms h.1 n.1)
    nests_without ss vs (frame.Counts x value last fs ∷ k) ms h n = (statements_there ss fs h.0 n.0, nests_without ss vs k ms h.1 n.1)
    nests_without ss vs (frame.Handles hs ∷ k) ms h n = (
      (
        all_of (without_all own ss),
        (λ t. refl),
        handlers_without types callees own other_kinds call_without n.0.0 (all_of (without_all own ss)) hs (there_without ss n.0.0 n.0.1) h.0 n.0.2,
      ),
      nests_without ss vs k ms h.1 n.1,
    )
    nests_without ss vs (frame.Calls procedure b actuals ∷ k) ms h n =
        let there = all_of (without_all own ss) in
        let called = call_without procedure n.0.0 there (is_without own n.0.0 there (there_without ss n.0.0 n.0.1)) n.0.2.1 in
        ((there, (λ t. refl), (nesting procedure b there h.0.1 called, called)), nests_without ss vs k ms h.1 n.1)
    nests_without ss vs (frame.DeclaresRecord x t ∷ k) ms h n = (
      (
        (
          all_of (without_all own ss),
          (λ u. refl),
          (
            n.0.0.2.0,
            open_without own n.0.0.0 (all_of (without_all own ss)) (reached_components types t) (there_without ss n.0.0.0 n.0.0.1) (other_kinds t (not_true (own t) h.0.0)) n.0.0.2.1,
          ),
        ),
        owns_without own ss vs n.0.1,
      ),
      nests_without ss vs k ms h.1 n.1,
    )
    nests_without ss vs (frame.Confines ∷ k) ms h (x, inl n) = (x, inl (nests_without ss vs k ms h.1 n))
    nests_without ss vs (frame.Confines ∷ k) ms h (x, inr goes) = (x, inr (goes_without ss vs k ms h.1 goes))
    nests_without ss vs (frame.Returns actuals references ∷ k) ms (any, inl h) n = (n.0, nests_without ss vs k ms h n.1)
    nests_without ss vs (frame.Returns actuals references ∷ k) ms (any, inr h) n = absurd (cc (h.0))
    nests_without ss vs (f ∷ k) ms h n = (n.0, nests_without ss vs k ms h.1 n.1)

    pub goes_without : (ss vs : Scopes) (k : List (Frame Value)) (ms : List Master) → Sits types bodies still own false k ms → Goes types callees None calling ss vs k
        → Goes types callees None calling (without_all own ss) vs k
    goes_without ss vs [] ms h goes = absurd goes
    goes_without ss vs (frame.Leaves mode ∷ k) [] h goes = absurd h.1
    goes_without ss vs (frame.Leaves mode ∷ k) (m ∷ ms) h goes = outside_without ss vs k (λ nests. nests_without (older ss) (older vs) k ms h.1.1 nests) goes
    goes_without ss vs (frame.Treats v (frame.begins by done) tasks ∷ k) ms h goes = absurd goes
    goes_without ss vs (frame.Treats v (frame.ends cause) tasks ∷ k) ms h goes = goes_without ss vs k ms h.1 goes
    goes_without ss vs (frame.Ends v ∷ k) ms h goes = goes_without ss vs k ms h.1 goes
    goes_without ss vs (frame.GivesBack v cause pool ∷ k) ms h goes = goes_without ss vs k ms h.1 goes
    goes_without ss vs (f ∷ k) ms h goes = absurd goes
