-- Where collections are created: those of one declarative part have places in this part, one behind the other, where no collection is created twice.

use Rattle.std.proofs.Common.{◌≡◌, ℕ, ◌+◌, ◌<◌, ◌≤◌, ◌==◌, Bool, true, false, if◌then◌else◌, List, [], ◌∷◌, Some, None, arith, refl, ap, ◌∙◌}
use Rattle.std.proofs.lemmas.Bool.{eq-eqb}
use Rattle.ada_meaning.specs.Step.{in_front}
use Rattle.ada_operations.specs.Created.{place_from, place_in, or_else, place_among, or_alone, place_of, precedes, is_created_before}
use Rattle.ada_scopes.proofs.Counts.{one, times}
use Rattle.ada_created.proofs.Control.{Each}

-- How often these parts create the collection of a type.
abbrev pub total : ℕ → List (List ℕ) → ℕ
total t [] = 0
total t (us ∷ parts) = times t us + total t parts

-- Where a collection is found among others that are created in one part.
unequal : (b : Bool) (n : ℕ) → one b + n ≡ 0 → b ≡ false
unequal true n h = absurd (omega (arith, h))
unequal false n h = refl

none_there : (part order : ℕ) (us : List ℕ) (t : ℕ) → times t us ≡ 0 → place_from part order us t ≡ None
none_there part order [] t none = refl
none_there part order (u ∷ us) t none =
    let other = unequal (u == t) (times t us) none in
    rw other (none_there part (order + 1) us t (omega (arith, none)))

none_in : (us : List ℕ) (t : ℕ) → times t us ≡ 0 → place_in us t ≡ None
none_in [] t none = refl
none_in (u ∷ us) t none = none_there u 0 (u ∷ us) t none

one_there : (part order : ℕ) (us : List ℕ) (t : ℕ) (rest : List (List ℕ)) → 1 ≤ times t us
    → or_else (place_from part order us t) (place_among rest t) ≡ place_from part order us t
one_there part order [] t rest some = absurd (omega (arith, some))
one_there part order (u ∷ us) t rest some = by (u == t) (one_there part (order + 1) us t rest) some
  where
    by : (b : Bool)
        → (1 ≤ times t us → or_else (place_from part (order + 1) us t) (place_among rest t) ≡ place_from part (order + 1) us t) → 1 ≤ one b + times t us
        → or_else (if b then Some (record { part = part; order = order }) else place_from part (order + 1) us t) (place_among rest t)
        ≡ (if b then Some (record { part = part; order = order }) else place_from part (order + 1) us t)
    by true later le = refl
    by false later le = later (omega (arith, le))

one_in : (us : List ℕ) (t : ℕ) (rest : List (List ℕ)) → 1 ≤ times t us → or_else (place_in us t) (place_among rest t) ≡ place_in us t
one_in [] t rest some = absurd (omega (arith, some))
one_in (u ∷ us) t rest some = one_there u 0 (u ∷ us) t rest some

module _ (parts : List (List ℕ)) where
  -- These collections have places in a part, one behind the other, from one on.
  abbrev pub HavePlaces : (part order : ℕ) → List ℕ → Type 0
  HavePlaces part order [] = Unit {0}
  HavePlaces part order (t ∷ ts) = (place_among parts t ≡ Some (record { part = part; order = order })) × HavePlaces part (order + 1) ts

  -- So they have from some place on.
  abbrev pub InOnePart : List ℕ → Type 0
  InOnePart ts = (part : ℕ) × (order : ℕ) × HavePlaces part order ts

  -- What is among others that are created once is none in front of them.
  one_place : (u t n : ℕ) → one (u == t) + n ≤ 1 → 1 ≤ n → (u == t) ≡ false
  one_place u t n le some = unequal (u == t) 0 (by (u == t) le)
    where
      by : (b : Bool) → one b + n ≤ 1 → one b + 0 ≡ 0
      by true le' = absurd (omega (arith, le', some))
      by false le' = refl

  -- They have such places where none of them is created twice and each is found among them.
  have_places : (part order : ℕ) (ts : List ℕ) → ((t : ℕ) → times t ts ≤ 1)
      → ((t : ℕ) → 1 ≤ times t ts → place_among parts t ≡ place_from part order ts t) → HavePlaces part order ts
  have_places part order [] once found = tt
  have_places part order (u ∷ ts) once found =
      let here : (u == u) ≡ true = eq-eqb u u refl in
      let at_first : place_from part order (u ∷ ts) u ≡ Some (record { part = part; order = order }) = rw here refl in
      let some : 1 ≤ times u (u ∷ ts) = rw here (omega arith) in (
        found u some ∙ at_first,
        have_places part (order + 1) ts (λ t. let le = once t in omega (arith, le))
            (λ t le. found t (omega (arith, le)) ∙ behind t le),
      )
    where
      behind : (t : ℕ) → 1 ≤ times t ts → place_from part order (u ∷ ts) t ≡ place_from part (order + 1) ts t
      behind t le = rw (one_place u t (times t ts) (once t) le) refl

  -- So it is with the collections of each part.
  in_part : (us : List ℕ) → ((t : ℕ) → times t us ≤ 1) → ((t : ℕ) → 1 ≤ times t us → place_among parts t ≡ place_in us t) → InOnePart us
  in_part [] once found = (0, 0, tt)
  in_part (u ∷ us) once found = (u, 0, have_places u 0 (u ∷ us) once found)

  in_parts : (rest : List (List ℕ)) → ((t : ℕ) → total t rest ≤ 1) → ((t : ℕ) → 1 ≤ total t rest → place_among parts t ≡ place_among rest t)
      → Each InOnePart rest
  in_parts [] once found = tt
  in_parts (us ∷ rest) once found = (
    in_part us (λ t. let le = once t in omega (arith, le))
        (λ t le. found t (omega (arith, le)) ∙ one_in us t rest le),
    in_parts rest (λ t. let le = once t in omega (arith, le))
        (λ t le. found t (omega (arith, le)) ∙ later t le),
  )
    where
      later : (t : ℕ) → 1 ≤ total t rest → place_among (us ∷ rest) t ≡ place_among rest t
      later t le = let all = once t in rw (none_in us t (omega (arith, all, le))) refl

  pub in_all_parts : ((t : ℕ) → total t parts ≤ 1) → Each InOnePart parts
  in_all_parts once = in_parts parts once (λ t le. refl)

  -- These collections, the newest one first, have places in a part before one, of which a newer one has a later place.
  abbrev pub PlacesFall : (part order : ℕ) → List ℕ → Type 0
  PlacesFall part order [] = Unit {0}
  PlacesFall part order (t ∷ ts) = (own : ℕ) × (own < order) × (place_among parts t ≡ Some (record { part = part; order = own })) × PlacesFall part own ts

  pub places_fall : (part order : ℕ) (ts coming : List ℕ) → HavePlaces part order (in_front ts coming)
      → (last : ℕ) × HavePlaces part last coming × PlacesFall part last ts
  places_fall part order [] coming h = (order, h, tt)
  places_fall part order (t ∷ ts) coming h =
      let before = places_fall part order ts (t ∷ coming) h in
      (before.0 + 1, before.1.1, (before.0, omega arith, before.1.0, before.2))

  -- Of two places in one part that one comes first that is less.
  pub comes_first : (part first second u t : ℕ) → first < second → place_among parts u ≡ Some (record { part = part; order = first })
      → place_among parts t ≡ Some (record { part = part; order = second }) → is_created_before parts u t ≡ true
  comes_first part first second u t lt at_u at_t =
      let own : place_of parts u ≡ record { part = part; order = first } = ap (or_alone u) at_u in
      let other : place_of parts t ≡ record { part = part; order = second } = ap (or_alone t) at_t in
      rw (own, other) (precedes_in_part part first second lt)
    where
      precedes_in_part : (part first second : ℕ) → first < second → precedes (record { part = part; order = first }) (record { part = part; order = second }) ≡ true
      precedes_in_part part first second lt = grind (arith, lt)
