-- The variables that stand for the tracked components of an object (7.6), where the body comes to its end: the components get back what they own.

use Rattle.std.proofs.Common.{◌≡◌, ℕ, zero, suc, ◌+◌, ◌<◌, true, List, [], ◌∷◌, ◌++◌, length, map, refl, sym, ap, ◌∙◌, subst, arith}
use Rattle.std.proofs.lemmas.Bool.{and_parts}
use Rattle.std.proofs.lemmas.List.{append_assoc, set-set, set-get_or, get_or-set_other}
use Rattle.std.specs.Prelude.{Option, Some}
use Rattle.std.specs.List.{slice_get, slice_set, slice_index_or}
use Rattle.ada_program.specs.ProgramForm.{TypeForm, VariableForm}
use Rattle.ada_program.specs.declared.program.TypeNo.{TypeNo}
use Rattle.ada_program.specs.declared.program.VariableKind.{VariableKind}
use Rattle.ada_program.specs.declared.program.VariableKind.TheVariants as variable_kinds
use Rattle.ada_program.specs.WellFormed.{access_of, kind_in, selected_kind, variable_kind}
use Rattle.ada_flow.specs.declared.rule.Hold.{Hold}
use Rattle.ada_flow.specs.declared.rule.Hold.TheVariants as hold
use Rattle.ada_flow.specs.Flow.{Holds, hold_at, variable_access, gives_back, all_give_back}
use Rattle.ada_flow.specs.Tracking.{tracked_variable, judged, numbers_from, tracked_numbers}
use Rattle.ada_meaning.specs.declared.state.Id.{Id}
use Rattle.ada_meaning.specs.declared.state.Value.{Value}
use Rattle.ada_meaning.specs.declared.state.Value.TheVariants.{Null, Names}
use Rattle.ada_meaning.specs.Named.{Object, object_at, store, filled}
use Rattle.ada_owners.specs.Places.{is_there}
use Rattle.ada_owners.proofs.Changes as changes
use Rattle.ada_owners.proofs.Changes.{changed_is, store_is}
use Rattle.ada_judged.specs.Fitting.{AreOfAccess, TracksComponents}
use Rattle.ada_tracked.specs.Frames.{View, shifted, watched, blank_values, blank_object, blanked, values_at, tracked_values}
use Rattle.ada_tracked.specs.Seen.{IsNoneOf, AreApart, IsWatched}
use Rattle.ada_tracked.proofs.Heaps.{values_there}
use Rattle.ada_tracked.proofs.Lists.{is_apart}
use Rattle.ada_sound.proofs.BlankedBegins.{EachNumber, kind_access, kind_of_access, one_more, with_is}
use Rattle.ada_sound.proofs.Fits.{Outsiders, Fit, Hand, IsSaid, IsWithin, IsOwn, none_spared, place_at, component_access, lose, hand_of, store_owner}
use Rattle.ada_sound.proofs.Objects.{set_here, set_twice}
use Rattle.ada_sound.proofs.Values.{read_other}

-- Variables are lost.
abbrev pub all_lost : List ℕ → Holds → Holds
all_lost [] holds = holds
all_lost (x ∷ xs) holds = all_lost xs (slice_set holds x hold.Lost)

-- A component that is none of those that hold null is as it was; and where the first one of them gets back what it held, only the others hold null.
blank_apart : (bs : List ℕ) (b : ℕ) (vs : List Value) → IsNoneOf b bs → slice_index_or (blank_values bs vs) b Null ≡ slice_index_or vs b Null
blank_apart [] b vs none = refl
blank_apart (d ∷ ds) b vs none = get_or-set_other (blank_values ds vs) d b Null Null (is_apart b d none.0) ∙ blank_apart ds b vs none.1

refilled : (bs : List ℕ) (b : ℕ) (vs : List Value) → IsNoneOf b bs → slice_set (blank_values (b ∷ bs) vs) b (slice_index_or vs b Null) ≡ blank_values bs vs
refilled bs b vs none =
    set-set (blank_values bs vs) b Null (slice_index_or vs b Null)
    ∙ ap (λ (v : Value). slice_set (blank_values bs vs) b v) (sym (blank_apart bs b vs none)) ∙ set-get_or (blank_values bs vs) b Null

-- What owns or is null behind this number does so still once this one is lost.
others_give :
    (cs : List ℕ) (n m : ℕ) (holds : Holds) → n < m
    → all_give_back (numbers_from cs m) (slice_set holds n hold.Lost) ≡ all_give_back (numbers_from cs m) holds
others_give [] n m holds lt = refl
others_give (c ∷ cs) n m holds lt =
    rw (read_other holds n m hold.Lost hold.Lost (λ e. absurd (omega (arith, e, lt))), others_give cs n (m + 1) holds (omega (arith, lt))) refl

-- What is given back where the body ends: each of the variables from this number on holds what its component held, and is of the access type of that.
abbrev pub GetBack : List TypeForm → Object → (base : ℕ) → List VariableForm → List Value → (cs : List ℕ) → (n : ℕ) → Type 0
GetBack types x base variables places [] n = Unit {0}
GetBack types x base variables places (c ∷ cs) n =
    (place_at places n ≡ slice_index_or x.cell.values (base + c) Null) × (component_access types x (base + c) ≡ variable_access variables n)
    × GetBack types x base variables places cs (n + 1)

-- Each tracked component of the object is of the access type that its variable has.
abbrev pub AreOfKinds : List TypeForm → (formal : Option VariableKind) → Object → (base : ℕ) → (cs : List ℕ) → Type 0
AreOfKinds types formal x base cs = EachNumber (λ (c : ℕ). component_access types x (base + c) ≡ access_of (selected_kind types formal c)) cs

gets_back :
    (types : List TypeForm) (formal : Option VariableKind) (x : Object) (base : ℕ) (cs : List ℕ) (variables : List VariableForm) (places : List Value) (n : ℕ)
    → length variables ≡ n → length places ≡ n → AreOfKinds types formal x base cs
    → GetBack types x base (variables ++ map (tracked_variable types formal) cs) (places ++ values_at (shifted base cs) x.cell.values) cs n
gets_back types formal x base [] variables places n so_many_variables so_many_places of = tt
gets_back types formal x base (c ∷ cs) variables places n so_many_variables so_many_places of =
    let y = tracked_variable types formal c in
    let v = slice_index_or x.cell.values (base + c) Null in
    let rest =
    gets_back types formal x base cs (variables ++ y ∷ []) (places ++ v ∷ []) (n + 1)
    (one_more variables y ∙ ap (λ (i : ℕ). i + 1) so_many_variables) (one_more places v ∙ ap (λ (i : ℕ). i + 1) so_many_places) of.1 in (
      ap (λ (i : ℕ). place_at (places ++ v ∷ values_at (shifted base cs) x.cell.values) i) (sym so_many_places)
          ∙ first_behind places (values_at (shifted base cs) x.cell.values) v,
      of.0 ∙ (sym (kind_access (selected_kind types formal c)) ∙ ap access_of (sym kind)),
      subst (λ (vs : List VariableForm). GetBack types x base vs (places ++ v ∷ values_at (shifted base cs) x.cell.values) cs (n + 1))
          (append_assoc variables (y ∷ []) (map (tracked_variable types formal) cs))
          (subst (λ (vs : List Value). GetBack types x base ((variables ++ y ∷ []) ++ map (tracked_variable types formal) cs) vs cs (n + 1))
          (append_assoc places (v ∷ []) (values_at (shifted base cs) x.cell.values)) rest),
    )
  where
    first_behind : (us vs : List Value) (v : Value) → place_at (us ++ v ∷ vs) (length us) ≡ v
    first_behind [] vs v = refl
    first_behind (u ∷ us) vs v = first_behind us vs v

    form_behind : (us vs : List VariableForm) (y : VariableForm) → slice_get (us ++ y ∷ vs) (length us) ≡ Some y
    form_behind [] vs y = refl
    form_behind (u ∷ us) vs y = form_behind us vs y

    kind : variable_kind (variables ++ map (tracked_variable types formal) (c ∷ cs)) n ≡ Some (tracked_variable types formal c).kind
    kind =
        ap (λ (i : ℕ). variable_kind (variables ++ map (tracked_variable types formal) (c ∷ cs)) i) (sym so_many_variables)
        ∙ ap kind_in (form_behind variables (map (tracked_variable types formal) cs) (tracked_variable types formal c))

-- The components get back what the variables own, one after the other: what is left of them holds null.
module _ (types : List TypeForm) (variables : List VariableForm) (outer : Outsiders) (h : List Object) (o : Id) (x : Object)
    (found : object_at h o ≡ Some x) (there : is_there x.stage ≡ true) (places : List Value) where
  abbrev left_blank : List ℕ → List Object
  left_blank bs = slice_set h o.0 (blank_object bs x)

  -- What a variable holds is in hand once it is lost, if it is null or owns it.
  hand_by :
      (heap : List Object) (holds : Holds) (n : ℕ) (g : Hold) → hold_at holds n ≡ g → gives_back g ≡ true
      → Fit types variables outer none_spared heap places holds
      → Hand types variables outer none_spared heap places (slice_set holds n hold.Lost) (variable_access variables n) (place_at places n)
  hand_by heap holds n hold.Null is gives f =
      let null : place_at places n ≡ Null = subst (λ (g : Hold). IsSaid (place_at outer.given n) g (place_at places n)) is (f.said n) in
      changes.blank (λ p e. cc (null, e))
  hand_by heap holds n (hold.Kept r) is gives f = hand_of n (subst IsOwn (sym is) tt) f
  hand_by heap holds n (hold.Own r) is gives f = hand_of n (subst IsOwn (sym is) tt) f
  hand_by heap holds n (hold.Alias r) is gives f = absurd (cc gives)
  hand_by heap holds n hold.Lost is gives f = absurd (cc gives)

  one_back :
      (b : ℕ) (bs : List ℕ) (n : ℕ) (holds : Holds) → IsNoneOf b bs → gives_back (hold_at holds n) ≡ true
      → place_at places n ≡ slice_index_or x.cell.values b Null → component_access types x b ≡ variable_access variables n
      → Fit types variables outer none_spared (left_blank (b ∷ bs)) places holds
      → Fit types variables outer none_spared (left_blank bs) places (slice_set holds n hold.Lost)
  one_back b bs n holds none gives value kind f =
      subst (λ (heap : List Object). Fit types variables outer none_spared heap places (slice_set holds n hold.Lost)) same
      (store_owner o (blank_object (b ∷ bs) x) b (place_at places n) at there
      (rw kind (hand_by (left_blank (b ∷ bs)) holds n (hold_at holds n) refl gives f)) (lose n f))
    where
      at : object_at (left_blank (b ∷ bs)) o ≡ Some (blank_object (b ∷ bs) x)
      at = set_here h o.0 x (blank_object (b ∷ bs) x) found

      same : store (left_blank (b ∷ bs)) (Names o) b (place_at places n) ≡ left_blank bs
      same =
          store_is (left_blank (b ∷ bs)) o (blank_object (b ∷ bs) x) at b (place_at places n)
          ∙ (set_twice h o.0 (blank_object (b ∷ bs) x) (filled b (place_at places n) (blank_object (b ∷ bs) x))
          ∙ ap (λ (vs : List Value). slice_set h o.0 (record x { cell = record (x.cell) { values = vs } }))
          (ap (λ (v : Value). slice_set (blank_values (b ∷ bs) x.cell.values) b v) value ∙ refilled bs b x.cell.values none))

  all_back :
      (base : ℕ) (cs : List ℕ) (n : ℕ) (holds : Holds) → AreApart (shifted base cs) → all_give_back (numbers_from cs n) holds ≡ true
      → GetBack types x base variables places cs n → Fit types variables outer none_spared (left_blank (shifted base cs)) places holds
      → Fit types variables outer none_spared (left_blank []) places (all_lost (numbers_from cs n) holds)
  all_back base [] n holds apart give back f = f
  all_back base (c ∷ cs) n holds apart give back f =
      let gives = and_parts (gives_back (hold_at holds n)) (all_give_back (numbers_from cs (n + 1)) holds) give in
      all_back base cs (n + 1) (slice_set holds n hold.Lost) apart.1 (others_give cs n (n + 1) holds (omega arith) ∙ gives.1) back.2
      (one_back (base + c) (shifted base cs) n holds apart.0 gives.0 back.0 back.1 f)

-- What is written where it stands already changes nothing.
set_as_it_is : {X : Type 0} (xs : List X) (i : ℕ) (x : X) → slice_get xs i ≡ Some x → slice_set xs i x ≡ xs
set_as_it_is [] i x e = absurd (cc e)
set_as_it_is (y ∷ xs) zero x e = let one : y ≡ x = cc e in ap (λ (z : _). z ∷ xs) (sym one)
set_as_it_is (y ∷ xs) (suc i) x e = ap (λ (zs : List _). y ∷ zs) (set_as_it_is xs i x e)

-- Where the body comes to its end: each component has what its variable holds, which is null or owns it, and the variables are lost.
pub given_back :
    {types : List TypeForm} {outer : Outsiders} {holds : Holds} (variables : List VariableForm) (places : List Value) (w : View) (h : List Object)
    (x : Object) → object_at h w.object ≡ Some x → is_there x.stage ≡ true → AreApart (watched w) → w.tracks.first ≡ length variables
    → length places ≡ length variables → AreOfKinds types (variable_kind variables 0) x w.base w.tracks.components
    → all_give_back (tracked_numbers w.tracks) holds ≡ true
    → Fit types (judged types w.tracks variables) outer none_spared (blanked w h) (places ++ tracked_values w h) holds
    → Fit types (judged types w.tracks variables) outer none_spared h (places ++ tracked_values w h) (all_lost (tracked_numbers w.tracks) holds)
given_back {types} {outer} {holds} variables places w h x found there apart first so_many of give f =
    subst
    (λ (heap : List Object). Fit types (judged types w.tracks variables) outer none_spared heap (places ++ tracked_values w h)
    (all_lost (tracked_numbers w.tracks) holds))
    (set_as_it_is h w.object.0 x found)
    (all_back types (judged types w.tracks variables) outer h w.object x found there (places ++ tracked_values w h) w.base w.tracks.components w.tracks.first
    holds apart give back
    (subst (λ (heap : List Object). Fit types (judged types w.tracks variables) outer none_spared heap (places ++ tracked_values w h) holds)
    (changed_is h w.object x found (blank_object (watched w) x) (blank_object (watched w)) refl) f))
  where
    back : GetBack types x w.base (judged types w.tracks variables) (places ++ tracked_values w h) w.tracks.components w.tracks.first
    back =
        subst (λ (vs : List VariableForm). GetBack types x w.base vs (places ++ tracked_values w h) w.tracks.components w.tracks.first)
        (with_is variables (map (tracked_variable types (variable_kind variables 0)) w.tracks.components))
        (subst
        (λ (vs : List Value). GetBack types x w.base (variables ++ map (tracked_variable types (variable_kind variables 0)) w.tracks.components) (places ++ vs)
        w.tracks.components w.tracks.first)
        (sym (values_there w h x found))
        (gets_back types (variable_kind variables 0) x w.base w.tracks.components variables places w.tracks.first (sym first) (so_many ∙ sym first) of))

-- The same where the components are such as a body tracks, of an object that is watched.
module _ (types : List TypeForm) (formal : Option VariableKind) (object : TypeNo) (is : formal ≡ Some (variable_kinds.Record object)) where
  all_within :
      (x : Object) (base : ℕ) (cs : List ℕ) → AreOfAccess types object cs → IsWithin types formal x.cell.access base → AreOfKinds types formal x base cs
  all_within x base [] of within = tt
  all_within x base (c ∷ cs) of within =
      let kind = kind_of_access types formal object is c of.0 in
      (ap access_of (within c (variable_kinds.Access of.0.0) kind ∙ sym kind), all_within x base cs of.1 within)

-- The body comes to its end.
pub judged_ends :
    {types : List TypeForm} {outer : Outsiders} {holds : Holds} (variables : List VariableForm) (places : List Value) (w : View) (h : List Object)
    (watches : IsWatched w places h) → TracksComponents types w.tracks variables
    → IsWithin types (variable_kind variables 0) watches.object.cell.access w.base → all_give_back (tracked_numbers w.tracks) holds ≡ true
    → Fit types (judged types w.tracks variables) outer none_spared (blanked w h) (places ++ tracked_values w h) holds
    → Fit types (judged types w.tracks variables) outer none_spared h (places ++ tracked_values w h) (all_lost (tracked_numbers w.tracks) holds)
judged_ends {types} {outer} {holds} variables places w h watches tracks within give f =
    given_back variables places w h watches.object watches.at_object (rw watches.existing refl) watches.apart tracks.behind (watches.count ∙ tracks.behind)
    (all_within types (variable_kind variables 0) tracks.object tracks.formal watches.object w.base w.tracks.components tracks.components within) give f
