-- Values and their kinds: which value a variable or a component may hold, as objects come to be.

use Rattle.ada_typed.specs.Holding.{Cells, Designates, IsAccess, IsRecord, HasKind, HaveKinds, IsPooled, IsFilled, PartsLie}
use Rattle.std.proofs.Common.{◌≡◌, ℕ, zero, suc, Bool, true, false, List, [], ◌∷◌, ◌++◌, length, map, Option, Some, None, refl, sym, ap, ◌∙◌, subst}
use Rattle.std.specs.List.{slice_get, slice_set, slice_index_or}
use Rattle.ada_program.specs.declared.program.ComponentKind.{ComponentKind}
use Rattle.ada_program.specs.declared.program.ScalarType.{ScalarType}
use Rattle.ada_program.specs.declared.program.ScalarType.TheVariants.{Integer, Boolean}
use Rattle.ada_program.specs.declared.program.VariableKind.{VariableKind}
use Rattle.ada_program.specs.declared.program.VariableKind.TheVariants as variable
use Rattle.ada_program.specs.ProgramForm.{TypeForm, VariableForm}
use Rattle.ada_program.specs.WellFormed.{reached_components, record_components, held_kind, component_kind, kind_among, root_kind, variable_kind, has_record_at, object_named}
use Rattle.ada_meaning.specs.declared.state.Id.{Id}
use Rattle.ada_meaning.specs.declared.state.Value.{Value}
use Rattle.ada_meaning.specs.declared.state.Value.TheVariants.{Null, Names, Scalar, Part}
use Rattle.ada_meaning.specs.Heap.{Cell}
use Rattle.ada_meaning.specs.State.{Activation}
use Rattle.ada_meaning.specs.Step.{first_or, older, places_of, operands_of, with_places, with_operands, blank, blanks}
use Rattle.ada_meaning.specs.Named.{named}
use Rattle.ada_typed.proofs.Parts.{parts_known, firsts_known}

-- An object has as many controlled parts as its type says, and each begins where that says (7.6).
abbrev pub HasParts : List TypeForm → Cell Value → Type 0
HasParts types cell = (length cell.parts ≡ parts_known types cell.access) × (map (λ q. q.first) cell.parts ≡ firsts_known types cell.access)

-- Each object is filled, and has its controlled parts.
abbrev pub AreFilled : List TypeForm → Cells → Cells → Type 0
AreFilled types cells [] = Unit {0}
AreFilled types cells (c ∷ cs) = (IsFilled types cells c × HasParts types c) × AreFilled types cells cs

-- Each variable has a place, which holds a value of its kind, whether or not its declaration has been elaborated.
abbrev pub AreHeld : List TypeForm → Cells → List VariableForm → List Value → Type 0
AreHeld types cells [] vs = Unit {0}
AreHeld types cells (x ∷ xs) [] = ⊥
AreHeld types cells (x ∷ xs) (v ∷ vs) = HasKind types cells x.kind v × AreHeld types cells xs vs

-- What an operand is: a value of a kind; what refers to a component that holds such values (6.4.1); or what refers to a record of a type (5.2).
pub data OperandKind : Type 0 where
  of_kind : VariableKind → OperandKind
  refers_to : VariableKind → OperandKind
  lies_in : (record_type : ℕ) → OperandKind

-- A value refers to a component of an object, which holds values of this kind.
abbrev pub RefersTo : List TypeForm → Cells → VariableKind → Value → Type 0
RefersTo types cells kind Null = ⊥
RefersTo types cells kind (Names o) = ⊥
RefersTo types cells kind (Scalar v) = ⊥
RefersTo types cells kind (Part o place) =
    (cell : Cell Value) × (slice_get cells o.0 ≡ Some cell) × (kind_among (reached_components types cell.access) place.component ≡ Some kind)

-- A value refers to a record of a type, which lies in an object with its components and its controlled parts (7.6).
abbrev pub RefersToRecord : List TypeForm → Cells → (record_type : ℕ) → Value → Type 0
RefersToRecord types cells t Null = ⊥
RefersToRecord types cells t (Names o) = ⊥
RefersToRecord types cells t (Scalar v) = ⊥
RefersToRecord types cells t (Part o place) =
    (cell : Cell Value) × (slice_get cells o.0 ≡ Some cell) × (has_record_at (reached_components types cell.access) place.component (record_components types t) ≡ true)
    × PartsLie types (object_named types (Some cell.access)) (Some t) place.component place.part

-- A value is an operand of this kind.
abbrev pub IsOperand : List TypeForm → Cells → OperandKind → Value → Type 0
IsOperand types cells (of_kind kind) v = HasKind types cells kind v
IsOperand types cells (refers_to kind) v = RefersTo types cells kind v
IsOperand types cells (lies_in t) v = RefersToRecord types cells t v

-- Operands have these kinds, newest first.
abbrev pub AreComputed : List TypeForm → Cells → List OperandKind → List Value → Type 0
AreComputed types cells [] vs = Unit {0}
AreComputed types cells (kind ∷ kinds) [] = ⊥
AreComputed types cells (kind ∷ kinds) (v ∷ vs) = IsOperand types cells kind v × AreComputed types cells kinds vs

-- The running activation.
abbrev pub IsActive : List TypeForm → Cells → List VariableForm → List OperandKind → List (Activation Value) → Type 0
IsActive types cells variables kinds [] = ⊥
IsActive types cells variables kinds (a ∷ suspended) = AreHeld types cells variables a.places × AreComputed types cells kinds a.operands

-- The kind of a scalar.
abbrev pub kind_of : ScalarType → VariableKind
kind_of Integer = variable.Integer
kind_of Boolean = variable.Boolean

-- A kind is that of records.
abbrev pub is_record_kind : VariableKind → Bool
is_record_kind variable.Integer = false
is_record_kind variable.Boolean = false
is_record_kind (variable.Access access) = false
is_record_kind (variable.Record object) = true

-- What a path begins with is what its variable holds.
pub root_same : (of_record : Bool) (kind : Option VariableKind) (from : VariableKind) → root_kind of_record kind ≡ Some from → kind ≡ Some from
root_same of_record None from is = absurd (cc)
root_same true (Some variable.Integer) from is = absurd (cc)
root_same false (Some variable.Integer) from is = is
root_same true (Some variable.Boolean) from is = absurd (cc)
root_same false (Some variable.Boolean) from is = is
root_same true (Some (variable.Access access)) from is = absurd (cc)
root_same false (Some (variable.Access access)) from is = is
root_same true (Some (variable.Record object)) from is = is
root_same false (Some (variable.Record object)) from is = absurd (cc)

-- Names that were given stay those of objects of their access types, as objects come to be and change.
abbrev pub StayDesignated : Cells → Cells → Type 0
StayDesignated cells after = (access : ℕ) (o : Id) → Designates cells access o → Designates after access o

-- So values stay of their kinds.
module _ (cells after : Cells) (stay : StayDesignated cells after) where
  pub access_later : (access : ℕ) (v : Value) → IsAccess cells access v → IsAccess after access v
  access_later access Null h = tt
  access_later access (Names o) h = stay access o h
  access_later access (Scalar v) h = h
  access_later access (Part o place) h = h

  -- The object of a name stays one of its access type.
  cell_later : (o : Id) (cell : Cell Value) → slice_get cells o.0 ≡ Some cell → (later : Cell Value) × (slice_get after o.0 ≡ Some later) × (later.access ≡ cell.access)
  cell_later o cell is = stay cell.access o (cell, is, refl)

module _ (types : List TypeForm) (cells after : Cells) (stay : StayDesignated cells after) where
  record_later : (t : ℕ) (v : Value) → IsRecord types cells t v → IsRecord types after t v
  record_later t Null h = tt
  record_later t (Names o) h = stay t o h
  record_later t (Scalar v) h = h
  record_later t (Part o place) h =
      let later = cell_later cells after stay o h.0 h.1 in (
        later.0,
        later.1,
        ap (λ (access : ℕ). has_record_at (reached_components types access) place.component (reached_components types t)) later.2 ∙ h.2,
        subst (λ (access : ℕ). PartsLie types (object_named types (Some access)) (object_named types (Some t)) place.component place.part) (sym later.2) h.3,
      )

  pub refers_later : (kind : VariableKind) (v : Value) → RefersTo types cells kind v → RefersTo types after kind v
  refers_later kind Null h = h
  refers_later kind (Names o) h = h
  refers_later kind (Scalar v) h = h
  refers_later kind (Part o place) h =
      let later = cell_later cells after stay o h.0 h.1 in
      (later.0, later.1, ap (λ (access : ℕ). kind_among (reached_components types access) place.component) later.2 ∙ h.2)

  lies_later : (t : ℕ) (v : Value) → RefersToRecord types cells t v → RefersToRecord types after t v
  lies_later t Null h = h
  lies_later t (Names o) h = h
  lies_later t (Scalar v) h = h
  lies_later t (Part o place) h =
      let later = cell_later cells after stay o h.0 h.1 in (
        later.0,
        later.1,
        ap (λ (access : ℕ). has_record_at (reached_components types access) place.component (record_components types t)) later.2 ∙ h.2,
        subst (λ (access : ℕ). PartsLie types (object_named types (Some access)) (Some t) place.component place.part) (sym later.2) h.3,
      )

  pub kind_later : (kind : VariableKind) (v : Value) → HasKind types cells kind v → HasKind types after kind v
  kind_later variable.Integer v h = h
  kind_later variable.Boolean v h = h
  kind_later (variable.Access access) v h = access_later cells after stay access.0 v h
  kind_later (variable.Record object) v h = record_later object.0 v h

  pub kinds_later : (cs : List ComponentKind) (vs : List Value) → HaveKinds types cells cs vs → HaveKinds types after cs vs
  kinds_later [] [] h = tt
  kinds_later [] (v ∷ vs) h = h
  kinds_later (k ∷ cs) [] h = h
  kinds_later (k ∷ cs) (v ∷ vs) h = (kind_later (held_kind k) v h.0, kinds_later cs vs h.1)

  pub filled_later : (xs : Cells) → AreFilled types cells xs → AreFilled types after xs
  filled_later [] h = tt
  filled_later (x ∷ xs) h = (((h.0.0.0, h.0.0.1, kinds_later h.0.0.0 x.values h.0.0.2, h.0.0.3), h.0.1), filled_later xs h.1)

  pub held_later : (xs : List VariableForm) (vs : List Value) → AreHeld types cells xs vs → AreHeld types after xs vs
  held_later [] vs h = tt
  held_later (x ∷ xs) [] h = h
  held_later (x ∷ xs) (v ∷ vs) h = (kind_later x.kind v h.0, held_later xs vs h.1)

  operand_later : (kind : OperandKind) (v : Value) → IsOperand types cells kind v → IsOperand types after kind v
  operand_later (of_kind kind) v h = kind_later kind v h
  operand_later (refers_to kind) v h = refers_later kind v h
  operand_later (lies_in t) v h = lies_later t v h

  pub computed_later : (kinds : List OperandKind) (vs : List Value) → AreComputed types cells kinds vs → AreComputed types after kinds vs
  computed_later [] vs h = tt
  computed_later (kind ∷ kinds) [] h = h
  computed_later (kind ∷ kinds) (v ∷ vs) h = (operand_later kind v h.0, computed_later kinds vs h.1)

  pub active_later : (xs : List VariableForm) (kinds : List OperandKind) (acts : List (Activation Value)) → IsActive types cells xs kinds acts → IsActive types after xs kinds acts
  active_later xs kinds [] h = h
  active_later xs kinds (a ∷ suspended) h = (held_later xs a.places h.0, computed_later kinds a.operands h.1)

-- One object more.
get_more : (cells : Cells) (c : Cell Value) (i : ℕ) (cell : Cell Value) → slice_get cells i ≡ Some cell → slice_get (cells ++ c ∷ []) i ≡ Some cell
get_more [] c i cell is = absurd (cc)
get_more (x ∷ cells) c zero cell is = is
get_more (x ∷ cells) c (suc i) cell is = get_more cells c i cell is

pub designated_more : (cells : Cells) (c : Cell Value) → StayDesignated cells (cells ++ c ∷ [])
designated_more cells c access o h = (h.0, get_more cells c o.0 h.0 h.1, h.2)

-- An object that stays of its access type.
get_set : (cells : Cells) (i : ℕ) (before cell : Cell Value) (k access : ℕ) (found : Cell Value) → slice_get cells i ≡ Some before → cell.access ≡ before.access → slice_get cells k ≡ Some found → found.access ≡ access → (later : Cell Value) × (slice_get (slice_set cells i cell) k ≡ Some later) × (later.access ≡ access)
get_set [] i before cell k access found is same there own = absurd (cc)
get_set (x ∷ cells) zero before cell zero access found is same there own =
    let one : before ≡ found = cc in
    (cell, refl, same ∙ ap (λ (c : Cell Value). c.access) one ∙ own)
get_set (x ∷ cells) zero before cell (suc k) access found is same there own = (found, there, own)
get_set (x ∷ cells) (suc i) before cell zero access found is same there own = (found, there, own)
get_set (x ∷ cells) (suc i) before cell (suc k) access found is same there own = get_set cells i before cell k access found is same there own

pub designated_set : (cells : Cells) (i : ℕ) (before cell : Cell Value) → slice_get cells i ≡ Some before → cell.access ≡ before.access → StayDesignated cells (slice_set cells i cell)
designated_set cells i before cell is same access o h = get_set cells i before cell o.0 access h.0 is same h.1 h.2

pub filled_set : (types : List TypeForm) (cells : Cells) (xs : Cells) (i : ℕ) (cell : Cell Value) → AreFilled types cells xs → IsFilled types cells cell → HasParts types cell → AreFilled types cells (slice_set xs i cell)
filled_set types cells [] i cell h filled parts = tt
filled_set types cells (x ∷ xs) zero cell h filled parts = ((filled, parts), h.1)
filled_set types cells (x ∷ xs) (suc i) cell h filled parts = (h.0, filled_set types cells xs i cell h.1 filled parts)

-- A component gets another value of its kind.
pub kinds_set : (types : List TypeForm) (cells : Cells) (cs : List ComponentKind) (vs : List Value) (c : ℕ) (kind : VariableKind) (v : Value) → HaveKinds types cells cs vs → component_kind (slice_get cs c) ≡ Some kind → HasKind types cells kind v → HaveKinds types cells cs (slice_set vs c v)
kinds_set types cells [] [] c kind v h is has = tt
kinds_set types cells [] (u ∷ vs) c kind v h is has = absurd h
kinds_set types cells (k ∷ cs) [] c kind v h is has = h
kinds_set types cells (k ∷ cs) (u ∷ vs) zero kind v h is has = let one : kind ≡ held_kind k = cc in (subst (λ (q : VariableKind). HasKind types cells q v) one has, h.1)
kinds_set types cells (k ∷ cs) (u ∷ vs) (suc c) kind v h is has = (h.0, kinds_set types cells cs vs c kind v h.1 is has)

filled_end : (types : List TypeForm) (cells : Cells) (c : Cell Value) (xs : Cells) → AreFilled types cells xs → IsFilled types cells c → HasParts types c → AreFilled types cells (xs ++ c ∷ [])
filled_end types cells c [] h i parts = ((i, parts), tt)
filled_end types cells c (x ∷ xs) h i parts = (h.0, filled_end types cells c xs h.1 i parts)

-- A new object that is filled.
pub filled_new : (types : List TypeForm) (cells : Cells) (c : Cell Value) (components : List ComponentKind) → AreFilled types cells cells → reached_components types c.access ≡ Some components → HaveKinds types cells components c.values → IsPooled types c → HasParts types c → AreFilled types (cells ++ c ∷ []) (cells ++ c ∷ [])
filled_new types cells c components h is k pooled parts =
    let stay = designated_more cells c in
    filled_end types (cells ++ c ∷ []) c cells (filled_later types cells (cells ++ c ∷ []) stay cells h) (components, is, kinds_later types cells (cells ++ c ∷ []) stay components c.values k, pooled) parts

-- The newest name is that of the new object.
pub newest_name : (cells : Cells) (c : Cell Value) → slice_get (cells ++ c ∷ []) (length cells) ≡ Some c
newest_name [] c = refl
newest_name (x ∷ cells) c = newest_name cells c

-- What a variable holds.
held_at : (types : List TypeForm) (cells : Cells) (xs : List VariableForm) (vs : List Value) (x : ℕ) (kind : VariableKind) → AreHeld types cells xs vs → variable_kind xs x ≡ Some kind → HasKind types cells kind (slice_index_or vs x Null)
held_at types cells [] vs x kind h is = absurd (cc)
held_at types cells (y ∷ xs) [] x kind h is = absurd h
held_at types cells (y ∷ xs) (v ∷ vs) zero kind h is = let one : y.kind ≡ kind = cc in subst (λ (k : VariableKind). HasKind types cells k v) one h.0
held_at types cells (y ∷ xs) (v ∷ vs) (suc x) kind h is = held_at types cells xs vs x kind h.1 is

placed_at : (types : List TypeForm) (cells : Cells) (xs : List VariableForm) (vs : List Value) (x : ℕ) (kind : VariableKind) → AreHeld types cells xs vs → variable_kind xs x ≡ Some kind → slice_get vs x ≡ Some (slice_index_or vs x Null)
placed_at types cells [] vs x kind h is = absurd (cc)
placed_at types cells (y ∷ xs) [] x kind h is = absurd h
placed_at types cells (y ∷ xs) (v ∷ vs) zero kind h is = refl
placed_at types cells (y ∷ xs) (v ∷ vs) (suc x) kind h is = placed_at types cells xs vs x kind h.1 is

pub active_placed : (types : List TypeForm) (cells : Cells) (xs : List VariableForm) (kinds : List OperandKind) (acts : List (Activation Value)) (x : ℕ) (kind : VariableKind) → IsActive types cells xs kinds acts → variable_kind xs x ≡ Some kind → slice_get (places_of acts) x ≡ Some (slice_index_or (places_of acts) x Null)
active_placed types cells xs kinds [] x kind h is = absurd h
active_placed types cells xs kinds (a ∷ suspended) x kind h is = placed_at types cells xs a.places x kind h.0 is

pub active_held : (types : List TypeForm) (cells : Cells) (xs : List VariableForm) (kinds : List OperandKind) (acts : List (Activation Value)) (x : ℕ) (kind : VariableKind) → IsActive types cells xs kinds acts → variable_kind xs x ≡ Some kind → HasKind types cells kind (slice_index_or (places_of acts) x Null)
active_held types cells xs kinds [] x kind h is = absurd h
active_held types cells xs kinds (a ∷ suspended) x kind h is = held_at types cells xs a.places x kind h.0 is

-- A variable gets a value of its kind.
pub held_set : (types : List TypeForm) (cells : Cells) (xs : List VariableForm) (vs : List Value) (x : ℕ) (kind : VariableKind) (v : Value) → AreHeld types cells xs vs → variable_kind xs x ≡ Some kind → HasKind types cells kind v → AreHeld types cells xs (slice_set vs x v)
held_set types cells [] vs x kind v h is k = tt
held_set types cells (y ∷ xs) [] x kind v h is k = absurd h
held_set types cells (y ∷ xs) (u ∷ vs) zero kind v h is k = let one : kind ≡ y.kind = cc in (subst (λ (q : VariableKind). HasKind types cells q v) one k, h.1)
held_set types cells (y ∷ xs) (u ∷ vs) (suc x) kind v h is k = (h.0, held_set types cells xs vs x kind v h.1 is k)

pub active_set : (types : List TypeForm) (cells : Cells) (xs : List VariableForm) (kinds : List OperandKind) (acts : List (Activation Value)) (x : ℕ) (kind : VariableKind) (v : Value) → IsActive types cells xs kinds acts → variable_kind xs x ≡ Some kind → HasKind types cells kind v → IsActive types cells xs kinds (with_places (slice_set (places_of acts) x v) acts)
active_set types cells xs kinds [] x kind v h is k = h
active_set types cells xs kinds (a ∷ suspended) x kind v h is k = (held_set types cells xs a.places x kind v h.0 is k, h.1)

-- Operands come and go.
pub active_push : (types : List TypeForm) (cells : Cells) (xs : List VariableForm) (kinds : List OperandKind) (acts : List (Activation Value)) (kind : OperandKind) (v : Value) → IsActive types cells xs kinds acts → IsOperand types cells kind v → IsActive types cells xs (kind ∷ kinds) (with_operands (v ∷ operands_of acts) acts)
active_push types cells xs kinds [] kind v h k = h
active_push types cells xs kinds (a ∷ suspended) kind v h k = (h.0, (k, h.1))

computed_older : (types : List TypeForm) (cells : Cells) (kind : OperandKind) (kinds : List OperandKind) (vs : List Value) → AreComputed types cells (kind ∷ kinds) vs → AreComputed types cells kinds (older vs)
computed_older types cells kind kinds [] h = absurd h
computed_older types cells kind kinds (v ∷ vs) h = h.1

pub active_pop : (types : List TypeForm) (cells : Cells) (xs : List VariableForm) (kind : OperandKind) (kinds : List OperandKind) (acts : List (Activation Value)) → IsActive types cells xs (kind ∷ kinds) acts → IsActive types cells xs kinds (with_operands (older (operands_of acts)) acts)
active_pop types cells xs kind kinds [] h = h
active_pop types cells xs kind kinds (a ∷ suspended) h = (h.0, computed_older types cells kind kinds a.operands h.1)

computed_newest : (types : List TypeForm) (cells : Cells) (kind : OperandKind) (kinds : List OperandKind) (vs : List Value) → AreComputed types cells (kind ∷ kinds) vs → IsOperand types cells kind (first_or Null vs)
computed_newest types cells kind kinds [] h = absurd h
computed_newest types cells kind kinds (v ∷ vs) h = h.0

pub active_newest : (types : List TypeForm) (cells : Cells) (xs : List VariableForm) (kind : OperandKind) (kinds : List OperandKind) (acts : List (Activation Value)) → IsActive types cells xs (kind ∷ kinds) acts → IsOperand types cells kind (first_or Null (operands_of acts))
active_newest types cells xs kind kinds [] h = absurd h
active_newest types cells xs kind kinds (a ∷ suspended) h = computed_newest types cells kind kinds a.operands h.1

pub active_cleared : (types : List TypeForm) (cells : Cells) (xs : List VariableForm) (kinds : List OperandKind) (acts : List (Activation Value)) → IsActive types cells xs kinds acts → IsActive types cells xs [] (with_operands [] acts)
active_cleared types cells xs kinds [] h = h
active_cleared types cells xs kinds (a ∷ suspended) h = (h.0, tt)

pub active_none : (types : List TypeForm) (cells : Cells) (xs : List VariableForm) (kinds : List OperandKind) (acts : List (Activation Value)) → IsActive types cells xs kinds acts → IsActive types cells xs [] acts
active_none types cells xs kinds [] h = h
active_none types cells xs kinds (a ∷ suspended) h = (h.0, tt)

-- The first state's variables.
blank_kind : (types : List TypeForm) (cells : Cells) (kind : VariableKind) → HasKind types cells kind (blank named kind)
blank_kind types cells variable.Integer = tt
blank_kind types cells variable.Boolean = tt
blank_kind types cells (variable.Access access) = tt
blank_kind types cells (variable.Record object) = tt

pub held_blank : (types : List TypeForm) (cells : Cells) (xs : List VariableForm) → AreHeld types cells xs (blanks named xs)
held_blank types cells [] = tt
held_blank types cells (x ∷ xs) = (blank_kind types cells x.kind, held_blank types cells xs)

-- Components of an object.
pub component_held : (types : List TypeForm) (cells : Cells) (cs : List ComponentKind) (vs : List Value) (c : ℕ) (kind : VariableKind) → HaveKinds types cells cs vs → component_kind (slice_get cs c) ≡ Some kind → (v : Value) × (slice_get vs c ≡ Some v) × HasKind types cells kind v
component_held types cells [] vs c kind h is = absurd (cc)
component_held types cells (k ∷ cs) [] c kind h is = absurd h
component_held types cells (k ∷ cs) (v ∷ vs) zero kind h is = let one : held_kind k ≡ kind = cc in (v, refl, subst (λ (q : VariableKind). HasKind types cells q v) one h.0)
component_held types cells (k ∷ cs) (v ∷ vs) (suc c) kind h is = component_held types cells cs vs c kind h.1 is

-- The object of a name is filled.
pub filled_at : (types : List TypeForm) (cells xs : Cells) (i : ℕ) (cell : Cell Value) → AreFilled types cells xs → slice_get xs i ≡ Some cell → IsFilled types cells cell
filled_at types cells [] i cell h is = absurd (cc)
filled_at types cells (x ∷ xs) zero cell h is = let one : x ≡ cell = cc in subst (λ (c : Cell Value). IsFilled types cells c) one h.0.0
filled_at types cells (x ∷ xs) (suc i) cell h is = filled_at types cells xs i cell h.1 is

-- It has its controlled parts.
pub parts_at : (types : List TypeForm) (cells xs : Cells) (i : ℕ) (cell : Cell Value) → AreFilled types cells xs → slice_get xs i ≡ Some cell → HasParts types cell
parts_at types cells [] i cell h is = absurd (cc)
parts_at types cells (x ∷ xs) zero cell h is = let one : x ≡ cell = cc in subst (λ (c : Cell Value). HasParts types c) one h.0.1
parts_at types cells (x ∷ xs) (suc i) cell h is = parts_at types cells xs i cell h.1 is
