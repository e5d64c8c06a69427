-- The record types that have controlled parts, by their numbers among these (7.6), as the code finds them, and tables of what is known of each by what is
-- known of those of lesser numbers.

use Rattle.std.proofs.Common.{◌≡◌, ℕ, zero, suc, ◌<◌, ◌≤◌, Bool, true, false, ◌==◌, List, [], ◌∷◌, ◌++◌, length, map, get_or, Option, Some, None, refl, sym, ap, ◌∙◌, subst, arith, length-append, Bor}
use Rattle.std.specs.Prelude.{◌&&◌, if◌then◌else◌, nat_lt, count_by, find}
use Rattle.std.specs.List.{list_all, slice_get, slice_index_or}
use Rattle.std.specs.Option.{option_copied, option_map}
use Rattle.std.proofs.lemmas.Bool.{eqb-true, ltb-true}
use Rattle.std.proofs.lemmas.Grind.{common_steps}
use Rattle.std.proofs.lemmas.List.{length-map}
use Rattle.ada_parts.proofs.Facts.{eq_self}
use Rattle.ada_program.specs.declared.program.ComponentKind.{ComponentKind}
use Rattle.ada_program.specs.declared.program.Finalization.{Finalization}
use Rattle.ada_program.specs.declared.program.TypeDefinition.{TypeDefinition}
use Rattle.ada_program.specs.declared.program.TypeDefinition.TheVariants as definition
use Rattle.ada_program.specs.Controlled as controlled
use Rattle.ada_program.specs.Controlled.{number_in, number_by, is_number}
use Rattle.ada_program.specs.ProgramForm.{PartForm, TypeForm, record_of, type_form}
use Rattle.ada_program.specs.WellFormed.{finalization_in, kind_fits, is_of_earlier, parts_in_order, parent_first, has_number, numbered_types, type_fits}
use Rattle.ada_program.proofs.Shapes.{same_types}
use Rattle.ada_quiet.specs.Calm.{type_numbered}
use Rattle.ada_quiet.specs.Known.{IsNumbered}
use Rattle.ada_quiet.proofs.InUse.{first_of_both, second_of_both}

-- The type of a number, as the code finds it.

-- A type has a number where its form has it.
has_it : (n : ℕ) (finalization : Option Finalization) → has_number n finalization ≡ is_number n (number_in finalization)
has_it n None = refl
has_it n (Some f) = refl

numbered_alike : (n : ℕ) (d : TypeDefinition) → has_number n (finalization_in (Some (type_form d))) ≡ is_number n (number_by (Some d))
numbered_alike n (definition.Record name parts components finalization) = has_it n finalization
numbered_alike n (definition.Access name designated pool) = refl
numbered_alike n (definition.Object record_type) = refl

found_either : (b : Bool) (d : TypeDefinition) (form : Option TypeForm) (o : Option TypeDefinition) → form ≡ option_map type_form o
    → (if b then Some (type_form d) else form) ≡ option_map type_form (if b then Some d else o)
found_either true d form o same = refl
found_either false d form o same = same

-- So the form of a number is that of the type which has it.
pub numbered_form : (types : List TypeDefinition) (n : ℕ) → type_numbered (map type_form types) n ≡ option_map type_form (controlled.type_numbered types n)
numbered_form [] n = refl
numbered_form (d ∷ types) n =
    ap (λ (b : Bool). if b then Some (type_form d) else type_numbered (map type_form types) n) (numbered_alike n d)
    ∙ found_either (is_number n (number_by (Some d))) d (type_numbered (map type_form types) n) (controlled.type_numbered types n) (numbered_form types n)

-- An item of a list, as it is seen.
item_seen : {X Y : Type 0} (f : X → Y) (xs : List X) (n : ℕ) (x : X) (d : Y) → n < length xs → x ≡ get_or xs n x → f x ≡ slice_index_or (map f xs) n d
item_seen f [] n x d below is = absurd (omega arith)
item_seen f (y ∷ ys) zero x d below is = ap f is
item_seen f (y ∷ ys) (suc n) x d below is = item_seen f ys n x d (omega arith) is

module _ (types given : List TypeDefinition) (are : given ≡ types) (table items : List (Option (Bor TypeDefinition))) (same : items ≡ table)
    (known : IsNumbered given (map option_copied table)) where
  -- The table is one of the types.
  numbered : IsNumbered types (map option_copied table)
  numbered = subst (λ (ts : List TypeDefinition). IsNumbered ts (map option_copied table)) are known

  -- An item of it is the type of that number.
  pub item_numbered :
      (n : ℕ) → n < length items → (item : Option (Bor TypeDefinition)) → item ≡ get_or items n item
      → option_map type_form (option_copied item) ≡ type_numbered (map type_form types) n
  item_numbered n below item at =
      let here : option_copied item ≡ slice_index_or (map option_copied table) n None =
      item_seen option_copied items n item None below at
      ∙ ap (λ (xs : List (Option (Bor TypeDefinition))). slice_index_or (map option_copied xs) n None) same in
      let long : length (map option_copied table) ≡ length items = length-map table option_copied ∙ sym (ap length same) in
      let within : n < length (map option_copied table) = omega (arith, long, below) in
      ap (option_map type_form) (here ∙ numbered.known n within) ∙ sym (numbered_form types n)

  -- It has as many items as there are such types.
  pub table_whole : length items ≡ numbered_types (map type_form types)
  table_whole = ap length same ∙ sym (length-map table option_copied) ∙ numbered.count ∙ sym (same_types types)

-- What is known of the types of lesser numbers.

-- The items of a list stay, where others come behind them, and the next item is the first one behind.
item_before : {X : Type 0} (none : X) (xs ys : List X) (n : ℕ) → n < length xs → slice_index_or (xs ++ ys) n none ≡ slice_index_or xs n none
item_before none [] ys n below = absurd (omega arith)
item_before none (x ∷ xs) ys zero below = refl
item_before none (x ∷ xs) ys (suc n) below = item_before none xs ys n (omega arith)

item_behind : {X : Type 0} (none : X) (xs : List X) (x : X) (n : ℕ) → n ≡ length xs → slice_index_or (xs ++ x ∷ []) n none ≡ x
item_behind none [] x zero here = refl
item_behind none [] x (suc n) here = absurd (omega (arith, here))
item_behind none (y ∷ xs) x zero here = absurd (omega (arith, here))
item_behind none (y ∷ xs) x (suc n) here = item_behind none xs x n (omega (arith, here))

module _ {X : Type 0} (none : X) (types : List TypeForm) (next : List X → Option TypeForm → X) (up : ℕ → List X) (first : up 0 ≡ [])
    (further : (n : ℕ) → up (suc n) ≡ up n ++ next (up n) (type_numbered types n) ∷ []) where
  -- A table that grows so has an item for each number.
  length_up : (n : ℕ) → length (up n) ≡ n
  length_up zero = ap length first
  length_up (suc n) =
      let before = length_up n in
      let grown = ap length (further n) in
      omega (arith, before, grown, length-append (up n) (next (up n) (type_numbered types n) ∷ []))

  -- It is known of a type by what is known of those before it.
  pub known_up : (count n : ℕ) → n < count → slice_index_or (up count) n none ≡ next (up n) (type_numbered types n)
  known_up zero n below = absurd (omega arith)
  known_up (suc count) n below = ap (λ (xs : List X). slice_index_or xs n none) (further count) ∙ by (known_up count n) (nat_lt n count) refl
    where
      here : X
      here = next (up count) (type_numbered types count)

      by : (n < count → slice_index_or (up count) n none ≡ next (up n) (type_numbered types n)) → (less : Bool) → nat_lt n count ≡ less
          → slice_index_or (up count ++ here ∷ []) n none ≡ next (up n) (type_numbered types n)
      by again true is =
          let before = ltb-true n count is in
          let long = length_up count in
          item_before none (up count) (here ∷ []) n (omega (arith, long, before)) ∙ again before
      by again false is =
          let same : n ≡ count = grind (arith, common_steps, is, below) in
          let long = length_up count in
          item_behind none (up count) here n (omega (arith, long, same)) ∙ ap (λ (k : ℕ). next (up k) (type_numbered types k)) (sym same)

  -- What is known of a type stays known.
  pub kept_up : (count n m : ℕ) → n ≤ count → m < n → slice_index_or (up n) m none ≡ slice_index_or (up count) m none
  kept_up count n m within below = known_up n m below ∙ sym (known_up count m (omega arith))

-- Where elements pass a test, each does, and where each does, all do.
pub one_of_all : {X : Type 0} (test : X → Bool) (xs : List X) (i : ℕ) (x : X) → list_all test xs ≡ true → slice_get xs i ≡ Some x → test x ≡ true
one_of_all test [] i x all at = absurd (cc at)
one_of_all test (y ∷ ys) zero x all at = let same : y ≡ x = cc at in rw (← same) (first_of_both (test y) (list_all test ys) all)
one_of_all test (y ∷ ys) (suc i) x all at = one_of_all test ys i x (second_of_both (test y) (list_all test ys) all) at

pub all_of_each : {X : Type 0} (test : X → Bool) (xs : List X) → ((i : ℕ) (x : X) → slice_get xs i ≡ Some x → test x ≡ true) → list_all test xs ≡ true
all_of_each test [] each = refl
all_of_each test (x ∷ xs) each = rw (each 0 x refl) (all_of_each test xs (λ i y at. each (suc i) y at))

-- The only element that passes a test is the one that is found.
counted : {X : Type 0} (p : X → Bool) (xs : List X) (t : ℕ) (x : X) → slice_get xs t ≡ Some x → p x ≡ true → 0 < count_by p xs
counted p [] t x at does = absurd (cc at)
counted p (y ∷ ys) zero x at does = grind (arith, common_steps)
counted p (y ∷ ys) (suc t) x at does = let more = counted p ys t x at does in grind (arith, common_steps, more)

found_one : {X : Type 0} (p : X → Bool) (xs : List X) (t : ℕ) (x : X) → slice_get xs t ≡ Some x → p x ≡ true → count_by p xs ≡ 1 → find p xs ≡ Some x
found_one p [] t x at does one = absurd (cc at)
found_one p (y ∷ ys) zero x at does one = grind (arith, common_steps)
found_one p (y ∷ ys) (suc t) x at does one =
    let some = counted p ys t x at does in
    let again = found_one p ys t x at does in
    grind (arith, common_steps, some, again)

-- In a well-formed program.

-- A record type with controlled parts is the one of its number, and its components are of types before it.
pub record Says (types : List TypeForm) (ps : List PartForm) (f : Finalization) (form : TypeForm) : Type 0 where
  pub earlier : list_all (λ q. is_of_earlier types f.number.0 q.kind) ps ≡ true
  pub below : f.number.0 < numbered_types types
  pub found : type_numbered types f.number.0 ≡ Some form

pub says : (types : List TypeForm) → list_all (type_fits types) types ≡ true
    → (t : ℕ) (name : List ℕ) (ps : List PartForm) (components : List ComponentKind) (f : Finalization)
    → slice_get types t ≡ Some (record_of name ps components (Some f)) → Says types ps f (record_of name ps components (Some f))
says types fit t name ps components f at =
    let form = record_of name ps components (Some f) in
    let kinds = list_all (kind_fits types) components in
    let first = parent_first ps in
    let some = nat_lt 0 f.parts in
    let ordered = parts_in_order types f.parts 0 ps in
    let earlier = list_all (λ q. is_of_earlier types f.number.0 q.kind) ps in
    let below = nat_lt f.number.0 (numbered_types types) in
    let its : TypeForm → Bool = λ u. has_number f.number.0 (finalization_in (Some u)) in
    let one = count_by its types == 1 in
    let whole = one_of_all (type_fits types) types t form fit at in
    let said = second_of_both (kinds && first) (some && ordered && earlier)
    (first_of_both (kinds && first && (some && ordered && earlier)) (below && one) whole) in
    let alone = second_of_both (kinds && first && (some && ordered && earlier)) (below && one) whole in
    record {
      earlier = second_of_both (some && ordered) earlier said;
      below = ltb-true f.number.0 (numbered_types types) (first_of_both below one alone);
      found = found_one its types t form at (eq_self f.number.0) (eqb-true (count_by its types) 1 (second_of_both below one alone));
    }
