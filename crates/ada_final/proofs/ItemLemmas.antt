-- A list that is kept oldest first, and read newest first.
use Rattle.std.proofs.Common.{◌≡◌, ◌≢◌, ℕ, zero, suc, ◌-◌, ◌<◌, ◌≤◌, Bool, true, false, List, [], ◌∷◌, ◌++◌, length, get_or, take, drop, reverse, remove, Contains, if◌then◌else◌, refl, sym, ap, ◌∙◌, arith, append_assoc, drop-cons, subst, Option, Some, None, IsSome, slice_get}
use Rattle.std.proofs.lemmas.List.{reverse-append, reverse-reverse, length-reverse, get_or-reverse, take-append-drop, length-drop}
use Rattle.std.proofs.lemmas.Option.{slice_get_past}
use Rattle.std.proofs.lemmas.Bool.{eq-eqb, eqb-true}
use Rattle.ada_final.specs.declared.item.Item.{Item}
use Rattle.ada_final.specs.Slot.{items_in}
use Rattle.ada_final.specs.Item.{is_same, without, IsLastPlace}

module _ {X : Type 0} where
  remove-seam : (us : List X) (x : X) (vs : List X) → remove (us ++ x ∷ vs) (length us) ≡ us ++ vs
  remove-seam [] x vs = refl
  remove-seam (u ∷ us) x vs = ap (λ (rest : List X). u ∷ rest) (remove-seam us x vs)

  reverse-seam : (us : List X) (x : X) (vs : List X) → reverse (us ++ x ∷ vs) ≡ reverse vs ++ x ∷ reverse us
  reverse-seam us x vs =
      reverse-append us (x ∷ vs)
      ∙ ap (λ (front : List X). front ++ reverse us) (reverse-append (x ∷ []) vs)
      ∙ append_assoc (reverse vs) (x ∷ []) (reverse us)

  -- to take out the element at a place from the end is to take out one of the list read backwards
  remove-reverse_seam : (us : List X) (x : X) (vs : List X) → remove (reverse (us ++ x ∷ vs)) (length vs) ≡ reverse (us ++ vs)
  remove-reverse_seam us x vs =
      let there : length (reverse vs) ≡ length vs = length-reverse vs in
      ap (λ (ys : List X). remove ys (length vs)) (reverse-seam us x vs)
      ∙ ap (λ (n : ℕ). remove (reverse vs ++ x ∷ reverse us) n) (sym there)
      ∙ remove-seam (reverse vs) x (reverse us)
      ∙ sym (reverse-append us vs)

  reverse-remove : (xs : List X) (place : ℕ) (d : X) → place < length xs → reverse (remove xs place) ≡ remove (reverse xs) (length xs - 1 - place)
  reverse-remove xs place d within =
      let split : take place xs ++ get_or xs place d ∷ drop (suc place) xs ≡ xs =
      ap (λ (rest : List X). take place xs ++ rest) (sym (drop-cons xs place d within)) ∙ take-append-drop place xs in
      let behind : length (drop (suc place) xs) ≡ length xs - 1 - place = omega (arith, length-drop (suc place) xs) in
      sym (remove-reverse_seam (take place xs) (get_or xs place d) (drop (suc place) xs))
      ∙ ap (λ (n : ℕ). remove (reverse (take place xs ++ get_or xs place d ∷ drop (suc place) xs)) n) behind
      ∙ ap (λ (ys : List X). remove (reverse ys) (length xs - 1 - place)) split

  -- an element of a list is one of it read backwards
  Contains-reverse : (xs : List X) (x : X) → Contains xs x → Contains (reverse xs) x
  Contains-reverse xs x (place, within, here) =
      let back = length xs - 1 - place in
      let inside : back < length (reverse xs) = omega (arith, length-reverse xs) in
      let same : length xs - 1 - back ≡ place = omega arith in
      (back, inside, get_or-reverse xs back x (omega arith) ∙ ap (λ (n : ℕ). get_or xs n x) same ∙ here)

  Contains-from_reverse : (xs : List X) (x : X) → Contains (reverse xs) x → Contains xs x
  Contains-from_reverse xs x there =
      subst (λ (ys : List X). Contains ys x) (reverse-reverse xs) (Contains-reverse (reverse xs) x there)

is_same-yes : (a b : Item) → a ≡ b → is_same a b ≡ true
is_same-yes a b same = eq-eqb a.word b.word (ap (λ (i : Item). i.word) same)

not_true : (b : Bool) → (b ≡ true → ⊥) → b ≡ false
not_true true never = absurd (never refl)
not_true false never = refl

is_same-no : (a b : Item) → a ≢ b → is_same a b ≡ false
is_same-no a b other =
    let item_of : ℕ → Item = λ w. record { word = w } in
    not_true (is_same a b) (λ same. other (ap item_of (eqb-true a.word b.word same)))

-- the newest item that is this one stands at this place
without-remove : (item : Item) (items : List Item) (place : ℕ) → place < length items → get_or items place item ≡ item → ((newer : ℕ) → newer < place → get_or items newer item ≢ item) → without item items ≡ remove items place
without-remove item [] place within here before = absurd (omega arith)
without-remove item (newest ∷ older) zero within here before = rw (is_same-yes newest item here)
without-remove item (newest ∷ older) (suc place) within here before =
    let first : newest ≢ item = before zero (omega arith) in
    rw (is_same-no newest item first)
    (ap (λ (rest : List Item). newest ∷ rest) (without-remove item older place (omega arith) here (λ newer lt. before (suc newer) (omega arith))))

without-absent : (item : Item) (items : List Item) → (Contains items item → ⊥) → without item items ≡ items
without-absent item [] absent = refl
without-absent item (newest ∷ older) absent =
    let first : newest ≢ item = λ same. absent (zero, omega arith, same) in
    rw (is_same-no newest item first)
    (ap (λ (rest : List Item). newest ∷ rest) (without-absent item older (λ there. absent (suc there.0, omega (arith, there.1), there.2))))

-- to take out an item's last place is to take out its newest occurrence
reverse-remove_last : (items : List Item) (item : Item) (place : ℕ) → IsLastPlace items item place → reverse (remove items place) ≡ without item (reverse items)
reverse-remove_last items item place last =
    let back = length items - 1 - place in
    let n = length-reverse items in
    let within = last.0 in
    let same : length items - 1 - back ≡ place = omega arith in
    let here : get_or (reverse items) back item ≡ item =
    get_or-reverse items back item (omega arith) ∙ ap (λ (n : ℕ). get_or items n item) same ∙ last.1 in
    let before : (newer : ℕ) → newer < back → get_or (reverse items) newer item ≢ item =
    λ newer lt at. last.2 (length items - 1 - newer) (omega arith) (omega arith) (sym (get_or-reverse items newer item (omega arith)) ∙ at) in
    reverse-remove items place item last.0
    ∙ sym (without-remove item (reverse items) back (omega arith) here before)

-- where the item stands nowhere, nothing is taken out
without-reverse_absent : (items : List Item) (item : Item) → (Contains items item → ⊥) → without item (reverse items) ≡ reverse items
without-reverse_absent items item absent =
    without-absent item (reverse items) (λ there. absent (Contains-from_reverse items item there))

-- where a list is entered, its place shows its items, newest first
entered_view : (entered : Bool) (items : List Item) (now : Option (List Item)) → (if entered then Some (reverse items) else None) ≡ now → IsSome now → (entered ≡ true) × (now ≡ Some (reverse items))
entered_view true items now view here = (refl, sym view)
entered_view false items now view here =
    let never : false ≡ true = subst (λ (slot : Option (List Item)). IsSome slot) (sym view) here in absurd (cc)

module _ (entered : Bool) (items : List Item) (now : Option (List Item)) (view : (if entered then Some (reverse items) else None) ≡ now) (here : IsSome now) where
  -- what an item's last place says of the list
  pub detached_view : (lent new : List Item) (item : Item) (place : ℕ) → lent ≡ items → IsLastPlace lent item place → new ≡ remove items place → (if entered then Some (reverse new) else None) ≡ Some (without item (items_in now))
  detached_view lent new item place same last after =
      let seen = entered_view entered items now view here in
      let kept = subst (λ (xs : List Item). IsLastPlace xs item place) same last in
      rw (seen.0, seen.1) (ap (λ (xs : List Item). Some (reverse xs)) after ∙ ap (λ (xs : List Item). Some xs) (reverse-remove_last items item place kept))

  pub detached_found : (lent : List Item) (item : Item) (place : ℕ) → lent ≡ items → IsLastPlace lent item place → Contains (items_in now) item
  detached_found lent item place same last =
      let seen = entered_view entered items now view here in
      let kept = subst (λ (xs : List Item). IsLastPlace xs item place) same last in
      rw seen.1 (Contains-reverse items item (place, kept.0, kept.1))

  pub absent_view : (lent : List Item) (item : Item) → lent ≡ items → (Contains lent item → ⊥) → now ≡ Some (without item (items_in now))
  absent_view lent item same absent =
      let seen = entered_view entered items now view here in
      let never = subst (λ (xs : List Item). Contains xs item → ⊥) same absent in
      rw seen.1 (ap (λ (xs : List Item). Some xs) (sym (without-reverse_absent items item never)))

  pub absent_found : (lent : List Item) (item : Item) → lent ≡ items → (Contains lent item → ⊥) → Contains (items_in now) item → ⊥
  absent_found lent item same absent there =
      let seen = entered_view entered items now view here in
      let never = subst (λ (xs : List Item). Contains xs item → ⊥) same absent in
      never (Contains-from_reverse items item (rw seen.1 at there))

  -- what taking the i-th says of the list
  pub taken_view : (new : List Item) (i place : ℕ) (d : Item) → i < length items → place ≡ length items - 1 - i → new ≡ remove items place → (if entered then Some (reverse new) else None) ≡ Some (remove (items_in now) i)
  taken_view new i place d within which after =
      let seen = entered_view entered items now view here in
      let back : length items - 1 - place ≡ i = omega arith in
      rw (seen.0, seen.1)
      (ap (λ (xs : List Item). Some (reverse xs)) after
      ∙ ap (λ (xs : List Item). Some xs) (reverse-remove items place d (omega arith))
      ∙ ap (λ (k : ℕ). Some (remove (reverse items) k)) back)

  pub none_left : (i : ℕ) → length items ≤ i → None ≡ slice_get (items_in now) i
  none_left i past =
      let seen = entered_view entered items now view here in
      rw seen.1 (sym (slice_get_past (reverse items) i (omega (arith, length-reverse items))))
