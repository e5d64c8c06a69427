-- Records that are copied as wholes.

use Rattle.std.proofs.Common.{◌≡◌, ◌≢◌, ℕ, zero, suc, ◌+◌, ◌-◌, ◌<◌, ◌≤◌, ◌==◌, ◌⊎◌, inl, inr, Bool, true, false, if◌then◌else◌, List, [], ◌∷◌, length, take, drop, reverse, Option, Some, None, arith, refl, sym, ap, ◌∙◌, subst}
use Rattle.std.specs.List.{slice_get, slice_set}
use Rattle.std.proofs.lemmas.List.{length-reverse}
use Rattle.std.proofs.Math.ListN.{length-take, length-drop}
use Rattle.std.proofs.Math.Seq.{drop-append_seam}
use Rattle.std.proofs.lemmas.Bool.{eqb-true}
use Rattle.ada_program.specs.declared.program.TypeDefinition.{TypeDefinition}
use Rattle.ada_program.specs.ProgramForm.{BodyForm, body_forms}
use Rattle.ada_program.specs.Typed.{width_of}
use Rattle.ada_meaning.specs.declared.state.Id.{Id}
use Rattle.ada_meaning.specs.declared.state.Value.{Value}
use Rattle.ada_meaning.specs.declared.state.Value.TheVariants.{Names}
use Rattle.ada_meaning.specs.declared.state.Mode.TheVariants.{Running}
use Rattle.ada_meaning.specs.declared.state.Stage.{Stage}
use Rattle.ada_meaning.specs.declared.state.Stage.TheVariants.{Building, Existing, Gone}
use Rattle.ada_meaning.specs.Event.{Followed, Quiet}
use Rattle.ada_meaning.specs.Frame.{Frame, Copies, Fills, StoresRecord}
use Rattle.ada_meaning.specs.State.{Activation}
use Rattle.ada_meaning.specs.Step.{moves, set_operands, operands, in_front, if_whole, record_in, copied_next, copies_next, newest_ones, without_newest, stored_from, record_stored_next, store_record_next, record_cell}
use Rattle.ada_meaning.specs.Named.{Object, State, Next, named, next, look, seen, existing, object_at, changed, filled, new_object}
use Rattle.ada_meaning.specs.Run.{Event, settled, Leads}
use Rattle.ada_meaning.specs.Records.{component_in, component_at, with_values, IsCopied, RecordsAreCopied}
use Rattle.ada_meaning.proofs.Defaults.{kept_in_front, taken_back}

abbrev Heap : Type 0
Heap = List Object

-- An element of a list that is set.
module _ {X : Type 0} where
  set_own : (xs : List X) (i : ℕ) (x : X) → slice_get xs i ≡ Some x → slice_set xs i x ≡ xs
  set_own [] i x is = refl
  set_own (y ∷ xs) zero x is = let same : y ≡ x = cc in ap (λ (z : X). z ∷ xs) (sym same)
  set_own (y ∷ xs) (suc i) x is = ap (λ (zs : List X). y ∷ zs) (set_own xs i x is)

  pub get_set : (xs : List X) (i : ℕ) (x : X) → i < length xs → slice_get (slice_set xs i x) i ≡ Some x
  get_set [] i x lt = absurd (omega arith)
  get_set (y ∷ xs) zero x lt = refl
  get_set (y ∷ xs) (suc i) x lt = get_set xs i x (omega arith)

  pub get_other : (xs : List X) (i j : ℕ) (x : X) → j ≢ i → slice_get (slice_set xs i x) j ≡ slice_get xs j
  get_other [] i j x apart = refl
  get_other (y ∷ xs) zero zero x apart = absurd (apart refl)
  get_other (y ∷ xs) zero (suc j) x apart = refl
  get_other (y ∷ xs) (suc i) zero x apart = refl
  get_other (y ∷ xs) (suc i) (suc j) x apart = get_other xs i j x (λ same. apart (ap suc same))

  set_twice : (xs : List X) (i : ℕ) (x y : X) → slice_set (slice_set xs i x) i y ≡ slice_set xs i y
  set_twice [] i x y = refl
  set_twice (z ∷ xs) zero x y = refl
  set_twice (z ∷ xs) (suc i) x y = ap (λ (zs : List X). z ∷ zs) (set_twice xs i x y)

  pub set_length : (xs : List X) (i : ℕ) (x : X) → length (slice_set xs i x) ≡ length xs
  set_length [] i x = refl
  set_length (y ∷ xs) zero x = refl
  set_length (y ∷ xs) (suc i) x = ap suc (set_length xs i x)

  pub within : (xs : List X) (i : ℕ) (x : X) → slice_get xs i ≡ Some x → i < length xs
  within [] i x is = absurd (cc)
  within (y ∷ xs) zero x is = omega arith
  within (y ∷ xs) (suc i) x is = omega (arith, within xs i x is)

  there : (xs : List X) (i : ℕ) → i < length xs → slice_get xs i ≢ None
  there [] i lt none = absurd (omega arith)
  there (y ∷ xs) zero lt none = absurd (cc)
  there (y ∷ xs) (suc i) lt none = there xs i (omega arith) none

  -- An element of a part of a list.
  get_take : (xs : List X) (n i : ℕ) → i < n → slice_get (take n xs) i ≡ slice_get xs i
  get_take xs zero i lt = absurd (omega arith)
  get_take [] (suc n) i lt = refl
  get_take (x ∷ xs) (suc n) zero lt = refl
  get_take (x ∷ xs) (suc n) (suc i) lt = get_take xs n i (omega arith)

  get_drop : (xs : List X) (n i : ℕ) → slice_get (drop n xs) i ≡ slice_get xs (n + i)
  get_drop xs zero i = ap (λ (j : ℕ). slice_get xs j) (omega arith)
  get_drop [] (suc n) i = refl
  get_drop (x ∷ xs) (suc n) i = let next : suc (n + i) ≡ suc n + i = omega arith in get_drop xs n i ∙ ap (λ (j : ℕ). slice_get (x ∷ xs) j) next

  take_same : (xs ys : List X) (n : ℕ) → ((i : ℕ) → i < n → slice_get xs i ≡ slice_get ys i) → take n xs ≡ take n ys
  take_same xs ys zero same = refl
  take_same [] [] (suc n) same = refl
  take_same [] (y ∷ ys) (suc n) same = let first : None ≡ Some y = same 0 (omega arith) in absurd (cc)
  take_same (x ∷ xs) [] (suc n) same = let first : Some x ≡ None = same 0 (omega arith) in absurd (cc)
  take_same (x ∷ xs) (y ∷ ys) (suc n) same =
      let first : Some x ≡ Some y = same 0 (omega arith) in
      let one : x ≡ y = cc in
      let rest : take n xs ≡ take n ys = take_same xs ys n (λ i lt. same (suc i) (omega (arith, lt))) in
      ap (λ (z : X). z ∷ take n xs) one ∙ ap (λ (zs : List X). y ∷ zs) rest

  -- A part of a list is the same as that of another one, if each of its elements is.
  pub record_same : (xs ys : List X) (first count : ℕ) → ((i : ℕ) → i < count → slice_get xs (first + i) ≡ slice_get ys (first + i)) → record_in xs first count ≡ record_in ys first count
  record_same xs ys first count same =
      ap (λ (zs : List X). if_whole count zs)
      (take_same (drop first xs) (drop first ys) count (λ i lt. get_drop xs first i ∙ same i lt ∙ sym (get_drop ys first i)))

  -- Elements that are set one after another, from one on.
  abbrev set_from : List X → ℕ → List X → List X
  set_from xs c [] = xs
  set_from xs c (v ∷ vs) = set_from (slice_set xs c v) (c + 1) vs

  from_length : (xs : List X) (c : ℕ) (vs : List X) → length (set_from xs c vs) ≡ length xs
  from_length xs c [] = refl
  from_length xs c (v ∷ vs) = from_length (slice_set xs c v) (c + 1) vs ∙ set_length xs c v

  from_beside : (xs : List X) (c : ℕ) (vs : List X) (d : ℕ) → (d < c) ⊎ (c + length vs ≤ d) → slice_get (set_from xs c vs) d ≡ slice_get xs d
  from_beside xs c [] d beside = refl
  from_beside xs c (v ∷ vs) d (inl lt) =
      from_beside (slice_set xs c v) (c + 1) vs d (inl (omega (arith, lt))) ∙ get_other xs c d v (λ same. absurd (omega (arith, lt, same)))
  from_beside xs c (v ∷ vs) d (inr le) =
      from_beside (slice_set xs c v) (c + 1) vs d (inr (omega (arith, le))) ∙ get_other xs c d v (λ same. absurd (omega (arith, le, same)))

  from_at : (xs : List X) (c : ℕ) (vs : List X) (i : ℕ) → i < length vs → length vs ≤ length xs - c → slice_get (set_from xs c vs) (c + i) ≡ slice_get vs i
  from_at xs c [] i lt fits = absurd (omega arith)
  from_at xs c (v ∷ vs) zero lt fits =
      let here : c + 0 ≡ c = omega arith in
      let room : c < length xs = omega (arith, fits) in
      ap (λ (d : ℕ). slice_get (set_from (slice_set xs c v) (c + 1) vs) d) here
      ∙ from_beside (slice_set xs c v) (c + 1) vs c (inl (omega arith)) ∙ get_set xs c v room
  from_at xs c (v ∷ vs) (suc i) lt fits =
      let next : c + suc i ≡ (c + 1) + i = omega arith in
      let room : length vs ≤ length (slice_set xs c v) - (c + 1) = omega (arith, fits, set_length xs c v) in
      ap (λ (d : ℕ). slice_get (set_from (slice_set xs c v) (c + 1) vs) d) next ∙ from_at (slice_set xs c v) (c + 1) vs i (omega arith) room

  from_same : (xs : List X) (c : ℕ) (vs : List X) → ((i : ℕ) → i < length vs → slice_get xs (c + i) ≡ slice_get vs i) → set_from xs c vs ≡ xs
  from_same xs c [] same = refl
  from_same xs c (v ∷ vs) same =
      let here : c + 0 ≡ c = omega arith in
      let own : slice_set xs c v ≡ xs = set_own xs c v (ap (λ (d : ℕ). slice_get xs d) (sym here) ∙ same 0 (omega arith)) in
      ap (λ (ys : List X). set_from ys (c + 1) vs) own
      ∙ from_same xs (c + 1) vs (λ i lt. let next : (c + 1) + i ≡ c + suc i = omega arith in ap (λ (d : ℕ). slice_get xs d) next ∙ same (suc i) (omega (arith, lt)))

-- The components of a record that lies in an object.
pub record Part (values : List Value) (first count : ℕ) (vs : List Value) : Type 0 where
  pub counted : length vs ≡ count
  pub fits : count ≤ length values - first
  pub each : (i : ℕ) → i < count → slice_get vs i ≡ slice_get values (first + i)

whole_part : (values : List Value) (first count : ℕ) (vs : List Value) (whole : Bool) → (length (take count (drop first values)) == count) ≡ whole → (if whole then Some (take count (drop first values)) else None) ≡ Some vs → Part values first count vs
whole_part values first count vs true is found =
    let us = take count (drop first values) in
    let same : us ≡ vs = cc in
    let long : length us ≡ count = eqb-true (length us) count is in
    record {
      counted = ap length (sym same) ∙ long;
      fits = omega (arith, long, length-take count (drop first values), length-drop first values);
      each = λ i lt. ap (λ (ws : List Value). slice_get ws i) (sym same) ∙ get_take (drop first values) count i lt ∙ get_drop values first i;
    }
whole_part values first count vs false is found = absurd (cc)

part_of : (values : List Value) (first count : ℕ) (vs : List Value) → record_in values first count ≡ Some vs → Part values first count vs
part_of values first count vs found = whole_part values first count vs (length (take count (drop first values)) == count) refl found

-- What is stored in an object, component by component.
stored_at : (vs : List Value) (xs : Heap) (o : Id) (c : ℕ) (x : Object) → object_at xs o ≡ Some x → stored_from named xs (Names o) c vs ≡ slice_set xs o.0 (with_values (set_from x.cell.values c vs) x)
stored_at [] xs o c x is = sym (set_own xs o.0 x is)
stored_at (v ∷ vs) xs o c x is =
    let y = filled c v x in
    ap (λ (at_o : Option Object). stored_from named (changed (filled c v) at_o xs o) (Names o) (c + 1) vs) is
    ∙ stored_at vs (slice_set xs o.0 y) o (c + 1) y (get_set xs o.0 y (within xs o.0 x is))
    ∙ set_twice xs o.0 y (with_values (set_from y.cell.values (c + 1) vs) y)

outside : (c to count long : ℕ) → long ≡ count → (c < to) ⊎ (to + count ≤ c) → (c < to) ⊎ (to + long ≤ c)
outside c to count long same (inl lt) = inl lt
outside c to count long same (inr le) = inr (omega (arith, same, le))

module _ (h : Heap) (source target : Id) (x y : Object) (vs us : List Value) (first to count : ℕ) where
  stored_whole : object_at h source ≡ Some x → object_at h target ≡ Some y → Part x.cell.values first count vs → Part y.cell.values to count us → IsCopied h (slice_set h target.0 (with_values (set_from y.cell.values to vs) y)) source target first to count
  stored_whole at_source at_target from into =
      let z = with_values (set_from y.cell.values to vs) y in
      let after = slice_set h target.0 z in
      let room : length vs ≤ length y.cell.values - to = omega (arith, from.counted, into.fits) in
      let there_after : object_at after target ≡ Some z = get_set h target.0 z (within h target.0 y at_target) in
      let fresh : (c : ℕ) → component_at after target c ≡ slice_get (set_from y.cell.values to vs) c = λ c. ap (λ (at_o : Option Object). component_in at_o c) there_after in
      let old : (c : ℕ) → component_at h source c ≡ slice_get x.cell.values c = λ c. ap (λ (at_o : Option Object). component_in at_o c) at_source in
      let was : (c : ℕ) → component_at h target c ≡ slice_get y.cell.values c = λ c. ap (λ (at_o : Option Object). component_in at_o c) at_target in
      record {
        alike = λ i lt. fresh (to + i) ∙ from_at y.cell.values to vs i (omega (arith, lt, from.counted)) room ∙ from.each i lt ∙ sym (old (first + i));
        whole = λ i lt none. there x.cell.values (first + i) (omega (arith, lt, from.fits)) (sym (old (first + i)) ∙ none);
        others = λ c beside. fresh c ∙ from_beside y.cell.values to vs c (outside c to count (length vs) from.counted beside) ∙ sym (was c);
        keeps = (y, set_from y.cell.values to vs, at_target, from_length y.cell.values to vs, there_after);
        elsewhere = λ o apart. get_other h target.0 o.0 z (λ same. apart (ap (λ (n : ℕ). record { 0 = n }) same));
        onto_itself = λ one at_one.
            let both : Some x ≡ Some y = sym at_source ∙ ap (object_at h) one ∙ at_target in
            let same : x ≡ y = cc in
            let own : set_from y.cell.values to vs ≡ y.cell.values =
            from_same y.cell.values to vs
            (λ i lt. ap (λ (n : ℕ). slice_get y.cell.values (n + i)) (sym at_one) ∙ ap (λ (u : Object). slice_get u.cell.values (first + i)) (sym same) ∙ sym (from.each i (omega (arith, lt, from.counted)))) in
            ap (λ (values : List Value). slice_set h target.0 (with_values values y)) own ∙ set_own h target.0 y at_target;
      }

-- The object that is found where a record is read.
pub record Reads (source : Id) (first count : ℕ) (at_o : Option Object) (s mid : State) : Type 0 where
  pub object : Object
  pub values : List Value
  pub is : at_o ≡ Some object
  pub read : record_in object.cell.values first count ≡ Some values
  pub goes : mid ≡ set_operands (in_front values (operands s)) s

module _ (source : Id) (first count : ℕ) (s mid : State) (e : Event) where
  copied_reads : (object : Object) (found : Option (List Value)) → record_in object.cell.values first count ≡ found → Leads (copied_next named (Names source) found s) settled e mid → Reads source first count (Some object) s mid
  copied_reads object None is leads = absurd leads
  copied_reads object (Some vs) is leads = record { object = object; values = vs; is = refl; read = is; goes = leads.1 }

  stage_reads : (object : Object) (stage : Stage) → Leads (copies_next named (Names source) first count (existing object stage) s) settled e mid → Reads source first count (Some object) s mid
  stage_reads object Building leads = copied_reads object (record_in object.cell.values first count) refl leads
  stage_reads object Existing leads = copied_reads object (record_in object.cell.values first count) refl leads
  stage_reads object Gone leads = absurd leads

  seen_reads : (at_o : Option Object) → Leads (copies_next named (Names source) first count (seen at_o) s) settled e mid → Reads source first count at_o s mid
  seen_reads None leads = absurd leads
  seen_reads (Some object) leads = stage_reads object object.stage leads

-- And where it is stored.
pub record Writes (target : Id) (to count : ℕ) (at_o : Option Object) (s after : State) : Type 0 where
  pub object : Object
  pub values : List Value
  pub is : at_o ≡ Some object
  pub fits : record_in object.cell.values to count ≡ Some values
  pub goes : after ≡ record (without_newest named count s) { heap = stored_from named s.heap (Names target) to (newest_ones named count s) }

module _ (target : Id) (to count : ℕ) (s after : State) (e : Event) where
  stored_writes : (object : Object) (found : Option (List Value)) → record_in object.cell.values to count ≡ found → Leads (record_stored_next named (Names target) to (newest_ones named count s) found (without_newest named count s)) settled e after → Writes target to count (Some object) s after
  stored_writes object None is leads = absurd leads
  stored_writes object (Some us) is leads = record { object = object; values = us; is = refl; fits = is; goes = leads.1 }

  stage_writes : (object : Object) (stage : Stage) → Leads (store_record_next named (Names target) to count (existing object stage) s) settled e after → Writes target to count (Some object) s after
  stage_writes object Building leads = stored_writes object (record_in object.cell.values to count) refl leads
  stage_writes object Existing leads = stored_writes object (record_in object.cell.values to count) refl leads
  stage_writes object Gone leads = absurd leads

  seen_writes : (at_o : Option Object) → Leads (store_record_next named (Names target) to count (seen at_o) s) settled e after → Writes target to count at_o s after
  seen_writes None leads = absurd leads
  seen_writes (Some object) leads = stage_writes object object.stage leads

-- The three steps.
module _ (types : List TypeDefinition) (bodies : List BodyForm) (source target : Id) (first to t : ℕ)
    (behind : List (Frame Value)) (procedure : Option ℕ) (places pending : List Value) (suspended : List (Activation Value)) where
  abbrev ready : List Value → List (Frame Value) → State → State
  ready kept k s = record s { mode = Running; control = k; activations = record { procedure = procedure; places = places; operands = kept } ∷ suspended }

  abbrev storing : List (Frame Value)
  storing = StoresRecord (Names target) to (width_of types t) ∷ behind

  copy_step :
      (s : State) → s.mode ≡ Running → s.control ≡ Copies first t ∷ Fills [] ∷ storing
      → s.activations ≡ record { procedure = procedure; places = places; operands = Names source ∷ pending } ∷ suspended
      → next types bodies s ≡ copies_next named (Names source) first (width_of types t) (look s.heap (Names source)) (ready pending (Fills [] ∷ storing) s)
  unfolding next
  copy_step s runs is active = rw (runs, is, active) refl

  fill_step : (kept : List Value) (s : State) → next types bodies (ready kept (Fills [] ∷ storing) s) ≡ moves Quiet (ready kept storing s)
  unfolding next
  fill_step kept s = refl

  store_step :
      (kept : List Value) (s : State) → next types bodies (ready kept storing s) ≡ store_record_next named (Names target) to (width_of types t)
      (look s.heap (Names target)) (ready kept behind s)
  unfolding next
  store_step kept s = refl

  -- The operands that are taken off are those that were copied.
  newest_are : (vs : List Value) → length vs ≡ width_of types t → reverse (take (width_of types t) (in_front vs pending)) ≡ vs
  newest_are vs long = ap (λ (n : ℕ). reverse (take n (in_front vs pending))) (sym long) ∙ taken_back vs pending

  rest_are : (vs : List Value) → length vs ≡ width_of types t → drop (width_of types t) (in_front vs pending) ≡ pending
  rest_are vs long =
      ap (λ (n : ℕ). drop n (in_front vs pending)) (sym long ∙ sym (length-reverse vs)) ∙ ap (λ (os : List Value). drop (length (reverse vs)) os) (kept_in_front vs pending)
      ∙ drop-append_seam (reverse vs) pending

  abbrev Ends : State → State → Type 0
  Ends before after =
      IsCopied before.heap after.heap source target first to (width_of types t) × (after.mode ≡ Running) × (after.control ≡ behind) ×
      (after.activations ≡ record { procedure = procedure; places = places; operands = pending } ∷ suspended)

  module _ (before mid after : State) (reads : Reads source first (width_of types t) (object_at before.heap source) (ready pending (Fills [] ∷ storing) before) mid) (writes : Writes target to (width_of types t) (object_at before.heap target) (ready (in_front reads.values pending) behind before) after) where
    heap_after : length reads.values ≡ width_of types t → after.heap ≡ slice_set before.heap target.0 (with_values (set_from writes.object.cell.values to reads.values) writes.object)
    heap_after long =
        ap (λ (s : State). s.heap) writes.goes ∙ ap (λ (us : List Value). stored_from named before.heap (Names target) to us) (newest_are reads.values long)
        ∙ stored_at reads.values before.heap target to writes.object writes.is

    ends : Ends before after
    ends =
        let part = part_of reads.object.cell.values first (width_of types t) reads.values reads.read in
        let room = part_of writes.object.cell.values to (width_of types t) writes.values writes.fits in
        let copied = stored_whole before.heap source target reads.object writes.object reads.values writes.values first to (width_of types t) reads.is writes.is part room in
        let rest = ap (λ (os : List Value). record { procedure = procedure; places = places; operands = os } ∷ suspended)
        (rest_are reads.values part.counted) in
        (subst (λ (heap : Heap). IsCopied before.heap heap source target first to (width_of types t)) (sym (heap_after part.counted)) copied, ap (λ (s : State). s.mode) writes.goes, ap (λ (s : State). s.control) writes.goes, ap (λ (s : State). s.activations) writes.goes ∙ rest)

  module _ (before : State) (runs : before.mode ≡ Running) (is : before.control ≡ Copies first t ∷ Fills [] ∷ storing) (active : before.activations ≡ record {
    procedure =
        procedure;
    places = places;
    operands = Names source ∷ pending;
  } ∷ suspended) where
    first_reads :
        (mid : State) (one : Event) → Leads (next types bodies before) settled one mid
        → Reads source first (width_of types t) (object_at before.heap source) (ready pending (Fills [] ∷ storing) before) mid
    first_reads mid one leads =
        seen_reads source first (width_of types t) (ready pending (Fills [] ∷ storing) before) mid one (object_at before.heap source)
        (subst (λ (coming : Next). Leads coming settled one mid) (copy_step before runs is active) leads)

    second_fills :
        (kept : List Value) (mid later : State) (two : Event) → mid ≡ ready kept (Fills [] ∷ storing) before → Leads (next types bodies mid) settled two later
        → later ≡ ready kept storing before
    second_fills kept mid later two goes leads =
        let moved = subst (λ (coming : Next). Leads coming settled two later) (ap (next types bodies) goes ∙ fill_step kept before) leads in
        moved.1

    third_writes :
        (kept : List Value) (later after : State) (three : Event) → later ≡ ready kept storing before → Leads (next types bodies later) settled three after
        → Writes target to (width_of types t) (object_at before.heap target) (ready kept behind before) after
    third_writes kept later after three goes leads =
        seen_writes target to (width_of types t) (ready kept behind before) after three (object_at before.heap target)
        (subst (λ (coming : Next). Leads coming settled three after) (ap (next types bodies) goes ∙ store_step kept before) leads)

    all_steps :
        (mid later after : State) (one two three : Event) → Leads (next types bodies before) settled one mid → Leads (next types bodies mid) settled two later
        → Leads (next types bodies later) settled three after → Ends before after
    all_steps mid later after one two three first_leads second_leads third_leads =
        let reads = first_reads mid one first_leads in
        let kept = in_front reads.values pending in
        let later_is = second_fills kept mid later two reads.goes second_leads in
        ends before mid after reads (third_writes kept later after three later_is third_leads)

    -- There are these steps, where both objects exist and have the components.
    steps_are_there :
        (x y : Object) (vs us : List Value) → object_at before.heap source ≡ Some x → x.stage ≡ Existing
        → record_in x.cell.values first (width_of types t) ≡ Some vs → object_at before.heap target ≡ Some y → y.stage ≡ Existing
        → record_in y.cell.values to (width_of types t) ≡ Some us → (mid later after : State) × Leads (next types bodies before) settled
        (Followed (Names source)) mid × Leads (next types bodies mid) settled Quiet later × Leads (next types bodies later) settled
        (Followed (Names target)) after
    steps_are_there x y vs us at_source source_exists read at_target target_exists fits =
        let kept = in_front vs pending in
        let s = ready kept behind before in
        (ready kept (Fills [] ∷ storing) before, ready kept storing before, record (without_newest named (width_of types t) s) { heap = stored_from named s.heap (Names target) to (newest_ones named (width_of types t) s) }, rw (copy_step before runs is active, at_source, source_exists, read) (refl, refl), rw (fill_step kept before) (refl, refl), rw (store_step kept before, at_target, target_exists, fits) (refl, refl))

pub copies_are_alike : RecordsAreCopied
copies_are_alike program source target first to t behind before mid later after procedure places pending suspended one two three runs is active =
    all_steps program.types.items (body_forms program) source target first to t behind procedure places pending suspended
    before runs is active mid later after one two three

-- What the law refuses, and what it lets pass: two objects, of which one's first two components are copied to another's first two.
abbrev two_objects : (vs us : List Value) → Heap
two_objects vs us = new_object (record_cell named [] 0 0 vs) ∷ new_object (record_cell named [] 0 0 us) ∷ []

abbrev CopiesPair : Heap → Heap → Type 0
CopiesPair before after = IsCopied before after (record { 0 = 0 }) (record { 0 = 1 }) 0 0 2

pair_passes : (a b c d e : Value) → CopiesPair (two_objects (a ∷ b ∷ []) (c ∷ d ∷ e ∷ [])) (two_objects (a ∷ b ∷ []) (a ∷ b ∷ e ∷ []))
pair_passes a b c d e =
    let vs = a ∷ b ∷ [] in
    let us = c ∷ d ∷ e ∷ [] in
    stored_whole (two_objects vs us) (record { 0 = 0 }) (record { 0 = 1 }) (new_object (record_cell named [] 0 0 vs)) (new_object (record_cell named [] 0 0 us)) vs (c ∷ d ∷ []) 0 0 2 refl refl (part_of vs 0 2 vs refl) (part_of us 0 2 (c ∷ d ∷ []) refl)

-- The components in reverse order.
reverse_refused : (a b c d e : Value) → a ≢ b → CopiesPair (two_objects (a ∷ b ∷ []) (c ∷ d ∷ e ∷ [])) (two_objects (a ∷ b ∷ []) (b ∷ a ∷ e ∷ [])) → ⊥
reverse_refused a b c d e apart copied = let first : Some b ≡ Some a = copied.alike 0 (omega arith) in apart (cc)

-- One too few.
too_few_refused : (a b c d e : Value) → b ≢ d → CopiesPair (two_objects (a ∷ b ∷ []) (c ∷ d ∷ e ∷ [])) (two_objects (a ∷ b ∷ []) (a ∷ d ∷ e ∷ [])) → ⊥
too_few_refused a b c d e apart copied = let second : Some d ≡ Some b = copied.alike 1 (omega arith) in apart (cc)

-- One too many.
too_many_refused : (a b c d e f : Value) → e ≢ f → CopiesPair (two_objects (a ∷ b ∷ []) (c ∷ d ∷ e ∷ [])) (two_objects (a ∷ b ∷ []) (a ∷ b ∷ f ∷ [])) → ⊥
too_many_refused a b c d e f apart copied = let third : Some f ≡ Some e = copied.others 2 (inr (omega arith)) in apart (cc)

-- At the wrong place.
elsewhere_refused : (a b c d e : Value) → a ≢ c → CopiesPair (two_objects (a ∷ b ∷ []) (c ∷ d ∷ e ∷ [])) (two_objects (a ∷ b ∷ []) (c ∷ a ∷ b ∷ [])) → ⊥
elsewhere_refused a b c d e apart copied = let first : Some c ≡ Some a = copied.alike 0 (omega arith) in apart (cc)

-- With another object changed, too: the source itself.
source_refused : (a b c d e f : Value) → a ≢ f → CopiesPair (two_objects (a ∷ b ∷ []) (c ∷ d ∷ e ∷ [])) (two_objects (f ∷ b ∷ []) (a ∷ b ∷ e ∷ [])) → ⊥
source_refused a b c d e f apart copied =
    let source : Some (new_object (record_cell named [] 0 0 (f ∷ b ∷ []))) ≡ Some (new_object (record_cell named [] 0 0 (a ∷ b ∷ []))) = copied.elsewhere (record { 0 = 0 }) (λ same. let never : 0 ≡ 1 = ap (λ (o : Id). o.0) same in absurd (omega (arith, never))) in
    let first : Some f ≡ Some a = ap (λ (at_o : Option Object). component_in at_o 0) source in
    apart (cc)
