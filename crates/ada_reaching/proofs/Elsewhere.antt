-- Values that refer to no ghost: which values do as bodies run, call and end.

use Rattle.std.proofs.Common.{◌≡◌, ℕ, zero, suc, Bool, true, false, List, [], ◌∷◌, ◌++◌, drop, length, map, reverse, take, Option, Some, None, Result, Ok, Err, refl, sym, subst}
use Rattle.std.specs.Prelude.{◌==◌, if◌then◌else◌}
use Rattle.std.proofs.lemmas.List.{reverse-append}
use Rattle.std.specs.List.{list_all, slice_index_or, slice_set}
use Rattle.ada_values.specs.declared.operator.BinaryOperator.{BinaryOperator}
use Rattle.ada_values.specs.declared.operator.UnaryOperator.{UnaryOperator}
use Rattle.ada_values.specs.declared.value.Value.{Value as ScalarValue}
use Rattle.ada_values.specs.declared.fault.OperatorFault.{OperatorFault}
use Rattle.ada_values.specs.Outcome.{outcome_of, unary_outcome_of}
use Rattle.ada_program.specs.declared.program.ComponentKind.{ComponentKind}
use Rattle.ada_program.specs.declared.program.ComponentKind.TheVariants as component
use Rattle.ada_program.specs.declared.program.VariableKind.{VariableKind}
use Rattle.ada_program.specs.declared.program.VariableKind.TheVariants as variable
use Rattle.ada_program.specs.Form.{ActualForm, in_value, in_null, in_access, in_record, in_out_path, in_out_access, in_out_component, in_out_record}
use Rattle.ada_program.specs.ProgramForm.{TypeForm, VariableForm}
use Rattle.ada_program.specs.WellFormed.{held_kind, is_access, kind_fits}
use Rattle.ada_meaning.specs.declared.state.Id.{Id}
use Rattle.ada_meaning.specs.declared.state.Value.{Value}
use Rattle.ada_meaning.specs.declared.state.Value.TheVariants.{Null, Names, Scalar, Part}
use Rattle.ada_meaning.specs.Step.{blank, blanks, copied_back, first_or, given_places, given_values, in_front, initial_value, initial_values, none_referred, older, one_given, one_referred, record_in, references_in, stored_back, value_given}
use Rattle.ada_meaning.specs.Named.{as_value, binary_given, named, unary_given, whole}
use Rattle.ada_typed.specs.Holding.{Cells, Designates, HasKind, HaveKinds}
use Rattle.ada_typed.proofs.Operators.{and_left, and_right}
use Rattle.ada_reaching.specs.Reaching.{IsElsewhere, AreElsewhere}

module _ (ghosts unnamed : Id → Bool) where
  -- What is no ghost is not unnamed.
  no_unnamed : (o : Id) (b : Bool) → (unnamed o ≡ true → ghosts o ≡ true) → unnamed o ≡ b → ghosts o ≡ false → unnamed o ≡ false
  no_unnamed o true are is none = let ghost : ghosts o ≡ true = are is in absurd (cc)
  no_unnamed o false are is none = is

  -- What names the object of a value that refers elsewhere does so.
  pub whole_elsewhere : ((o : Id) → unnamed o ≡ true → ghosts o ≡ true) → (v : Value) → IsElsewhere ghosts unnamed v → IsElsewhere ghosts unnamed (whole v)
  whole_elsewhere are Null other = tt
  whole_elsewhere are (Names o) other = other
  whole_elsewhere are (Scalar v) other = tt
  whole_elsewhere are (Part o place) other = no_unnamed o (unnamed o) (are o) refl other

  -- No object of an access type is unnamed.
  abbrev pub AccessedAreNamed : List TypeForm → Cells → Type 0
  AccessedAreNamed types cells = (o : Id) (access : ℕ) → Designates cells access o → is_access types access ≡ true → unnamed o ≡ false

  -- What a component may hold refers elsewhere then.
  pub held_elsewhere :
      (types : List TypeForm) (cells : Cells) (kind : ComponentKind) (v : Value) → AccessedAreNamed types cells → kind_fits types kind ≡ true
      → HasKind types cells (held_kind kind) v → IsElsewhere ghosts unnamed v
  held_elsewhere types cells kind Null accessed fits has = tt
  held_elsewhere types cells (component.Integer initial) (Names o) accessed fits has = absurd has
  held_elsewhere types cells (component.Boolean initial) (Names o) accessed fits has = absurd has
  held_elsewhere types cells (component.Access access) (Names o) accessed fits has = accessed o access.0 has fits
  held_elsewhere types cells kind (Scalar v) accessed fits has = tt
  held_elsewhere types cells (component.Integer initial) (Part o place) accessed fits has = absurd has
  held_elsewhere types cells (component.Boolean initial) (Part o place) accessed fits has = absurd has
  held_elsewhere types cells (component.Access access) (Part o place) accessed fits has = absurd has

  -- The first of some values that refer elsewhere does so.
  pub elsewhere_first : (vs : List Value) → AreElsewhere ghosts unnamed vs → IsElsewhere ghosts unnamed (first_or Null vs)
  elsewhere_first [] others = tt
  elsewhere_first (v ∷ vs) others = others.0

  -- So do those behind the first one.
  pub elsewhere_older : (vs : List Value) → AreElsewhere ghosts unnamed vs → AreElsewhere ghosts unnamed (older vs)
  elsewhere_older [] others = tt
  elsewhere_older (v ∷ vs) others = others.1

  -- The one of a number does.
  pub elsewhere_at : (vs : List Value) (i : ℕ) → AreElsewhere ghosts unnamed vs → IsElsewhere ghosts unnamed (slice_index_or vs i Null)
  elsewhere_at [] i others = tt
  elsewhere_at (v ∷ vs) zero others = others.0
  elsewhere_at (v ∷ vs) (suc i) others = elsewhere_at vs i others.1

  -- They do once one of them is another value that does.
  pub elsewhere_set :
      (vs : List Value) (i : ℕ) (v : Value) → IsElsewhere ghosts unnamed v → AreElsewhere ghosts unnamed vs
      → AreElsewhere ghosts unnamed (slice_set vs i v)
  elsewhere_set [] i v other others = tt
  elsewhere_set (u ∷ vs) zero v other others = (other, others.1)
  elsewhere_set (u ∷ vs) (suc i) v other others = (others.0, elsewhere_set vs i v other others.1)

  -- So do some of them.
  pub elsewhere_take : (n : ℕ) (vs : List Value) → AreElsewhere ghosts unnamed vs → AreElsewhere ghosts unnamed (take n vs)
  elsewhere_take zero vs others = tt
  elsewhere_take (suc n) [] others = tt
  elsewhere_take (suc n) (v ∷ vs) others = (others.0, elsewhere_take n vs others.1)

  -- So do those behind some of them.
  pub elsewhere_drop : (n : ℕ) (vs : List Value) → AreElsewhere ghosts unnamed vs → AreElsewhere ghosts unnamed (drop n vs)
  elsewhere_drop zero vs others = others
  elsewhere_drop (suc n) [] others = tt
  elsewhere_drop (suc n) (v ∷ vs) others = elsewhere_drop n vs others.1

  -- They do behind others that do.
  pub elsewhere_append : (vs us : List Value) → AreElsewhere ghosts unnamed vs → AreElsewhere ghosts unnamed us → AreElsewhere ghosts unnamed (vs ++ us)
  elsewhere_append [] us others more = more
  elsewhere_append (v ∷ vs) us others more = (others.0, elsewhere_append vs us others.1 more)

  -- They do in the reverse order.
  pub elsewhere_reverse : (vs : List Value) → AreElsewhere ghosts unnamed vs → AreElsewhere ghosts unnamed (reverse vs)
  elsewhere_reverse [] others = tt
  elsewhere_reverse (v ∷ vs) others =
      subst (λ (us : List Value). AreElsewhere ghosts unnamed us) (sym (reverse-append (v ∷ []) vs))
      (elsewhere_append (reverse vs) (v ∷ []) (elsewhere_reverse vs others.1) (others.0, tt))

  -- They do in front of others as operands.
  pub elsewhere_in_front : (vs us : List Value) → AreElsewhere ghosts unnamed vs → AreElsewhere ghosts unnamed us → AreElsewhere ghosts unnamed (in_front vs us)
  elsewhere_in_front [] us others more = more
  elsewhere_in_front (v ∷ vs) us others more = elsewhere_in_front vs (v ∷ us) others.1 (others.0, more)

  -- So does what an object's components hold.
  pub cell_elsewhere :
      (types : List TypeForm) (cells : Cells) (kinds : List ComponentKind) (vs : List Value) → AccessedAreNamed types cells
      → list_all (kind_fits types) kinds ≡ true → HaveKinds types cells kinds vs → AreElsewhere ghosts unnamed vs
  cell_elsewhere types cells [] [] accessed fit have = tt
  cell_elsewhere types cells [] (v ∷ vs) accessed fit have = absurd have
  cell_elsewhere types cells (kind ∷ kinds) [] accessed fit have = tt
  cell_elsewhere types cells (kind ∷ kinds) (v ∷ vs) accessed fit have = (
    held_elsewhere types cells kind v accessed (and_left (kind_fits types kind) (list_all (kind_fits types) kinds) fit) have.0,
    cell_elsewhere types cells kinds vs accessed (and_right (kind_fits types kind) (list_all (kind_fits types) kinds) fit) have.1,
  )

  -- Values do that are all of some, or none.
  whole_ones : (b : Bool) (us vs : List Value) → (if b then Some us else None) ≡ Some vs → AreElsewhere ghosts unnamed us → AreElsewhere ghosts unnamed vs
  whole_ones true us vs is others = let same : us ≡ vs = cc in subst (λ (ws : List Value). AreElsewhere ghosts unnamed ws) same others
  whole_ones false us vs is others = absurd (cc)

  -- So do those of a record that lies in an object, where its components do.
  pub record_elsewhere :
      (values : List Value) (first count : ℕ) (vs : List Value) → record_in values first count ≡ Some vs → AreElsewhere ghosts unnamed values
      → AreElsewhere ghosts unnamed vs
  record_elsewhere values first count vs is others =
      let us = take count (drop first values) in
      whole_ones (length us == count) us vs is (elsewhere_take count (drop first values) (elsewhere_drop first values others))

  -- What components hold at first refers to none.
  kinds_elsewhere : (kinds : List ComponentKind) → AreElsewhere ghosts unnamed (map (initial_value named) kinds)
  kinds_elsewhere [] = tt
  kinds_elsewhere (component.Integer initial ∷ kinds) = (tt, kinds_elsewhere kinds)
  kinds_elsewhere (component.Boolean initial ∷ kinds) = (tt, kinds_elsewhere kinds)
  kinds_elsewhere (component.Access access ∷ kinds) = (tt, kinds_elsewhere kinds)

  -- So it is, if there are components.
  pub initial_elsewhere : (kinds : Option (List ComponentKind)) → AreElsewhere ghosts unnamed (initial_values named kinds)
  initial_elsewhere None = tt
  initial_elsewhere (Some kinds) = kinds_elsewhere kinds

  -- What an operator gives refers to none.
  given_elsewhere : (given : Result ScalarValue OperatorFault) (v : Value) → as_value given ≡ Ok v → IsElsewhere ghosts unnamed v
  given_elsewhere given Null is = tt
  given_elsewhere (Ok u) (Names o) is = absurd (cc)
  given_elsewhere (Err fault) (Names o) is = absurd (cc)
  given_elsewhere given (Scalar u) is = tt
  given_elsewhere (Ok u) (Part o place) is = absurd (cc)
  given_elsewhere (Err fault) (Part o place) is = absurd (cc)

  -- So it is with one for one value.
  pub unary_elsewhere : (operator : UnaryOperator) (a v : Value) → unary_given operator a ≡ Ok v → IsElsewhere ghosts unnamed v
  unary_elsewhere operator Null v is = absurd (cc)
  unary_elsewhere operator (Names o) v is = absurd (cc)
  unary_elsewhere operator (Scalar a) v is = given_elsewhere (unary_outcome_of operator a) v is
  unary_elsewhere operator (Part o place) v is = absurd (cc)

  -- So it is with one for two values.
  pub binary_elsewhere : (operator : BinaryOperator) (a b v : Value) → binary_given operator a b ≡ Ok v → IsElsewhere ghosts unnamed v
  binary_elsewhere operator Null b v is = absurd (cc)
  binary_elsewhere operator (Names o) b v is = absurd (cc)
  binary_elsewhere operator (Scalar a) Null v is = absurd (cc)
  binary_elsewhere operator (Scalar a) (Names o) v is = absurd (cc)
  binary_elsewhere operator (Scalar a) (Scalar b) v is = given_elsewhere (outcome_of operator a b) v is
  binary_elsewhere operator (Scalar a) (Part o place) v is = absurd (cc)
  binary_elsewhere operator (Part o place) b v is = absurd (cc)

  -- What lies in a variable's place before its declaration is elaborated refers to none (8.3).
  blank_elsewhere : (kind : VariableKind) → IsElsewhere ghosts unnamed (blank named kind)
  blank_elsewhere variable.Integer = tt
  blank_elsewhere variable.Boolean = tt
  blank_elsewhere (variable.Access access) = tt
  blank_elsewhere (variable.Record object) = tt

  -- So it is with what lies in the places of these.
  blanks_elsewhere : (xs : List VariableForm) → AreElsewhere ghosts unnamed (blanks named xs)
  blanks_elsewhere [] = tt
  blanks_elsewhere (x ∷ xs) = (blank_elsewhere x.kind, blanks_elsewhere xs)

  -- So it is with the places of a body whose formal parameters get values that refer elsewhere (6.4.1).
  pub given_places_elsewhere :
      (vs : List Value) (xs : List VariableForm) → AreElsewhere ghosts unnamed vs → AreElsewhere ghosts unnamed (given_places named vs xs)
  given_places_elsewhere vs xs others = elsewhere_append vs _ others (elsewhere_drop (length vs) (blanks named xs) (blanks_elsewhere xs))

  -- The values that parameters get refer elsewhere where the operands do, and the first of these is that of a parameter.
  one_elsewhere :
      (more : List Value → List Value) → ((us : List Value) → AreElsewhere ghosts unnamed us → AreElsewhere ghosts unnamed (more us)) → (vs : List Value)
      → AreElsewhere ghosts unnamed vs → AreElsewhere ghosts unnamed (one_given more vs)
  one_elsewhere more each [] others = tt
  one_elsewhere more each (v ∷ vs) others = (others.0, each vs others.1)

  -- So it is where the first two are those of a component.
  value_elsewhere :
      (more : List Value → List Value) → ((us : List Value) → AreElsewhere ghosts unnamed us → AreElsewhere ghosts unnamed (more us)) → (vs : List Value)
      → AreElsewhere ghosts unnamed vs → AreElsewhere ghosts unnamed (value_given more vs)
  value_elsewhere more each [] others = tt
  value_elsewhere more each (r ∷ []) others = tt
  value_elsewhere more each (r ∷ v ∷ vs) others = (others.1.0, each vs others.1.1)

  -- So it is where the first one is no reference.
  none_elsewhere :
      (more : List Value → List Value) → ((us : List Value) → AreElsewhere ghosts unnamed us → AreElsewhere ghosts unnamed (more us)) → (vs : List Value)
      → AreElsewhere ghosts unnamed vs → AreElsewhere ghosts unnamed (none_referred more vs)
  none_elsewhere more each [] others = tt
  none_elsewhere more each (v ∷ vs) others = each vs others.1

  -- So it is where the first of two refers to a component.
  referred_elsewhere :
      (more : List Value → List Value) → ((us : List Value) → AreElsewhere ghosts unnamed us → AreElsewhere ghosts unnamed (more us)) → (vs : List Value)
      → AreElsewhere ghosts unnamed vs → AreElsewhere ghosts unnamed (one_referred more vs)
  referred_elsewhere more each [] others = tt
  referred_elsewhere more each (r ∷ []) others = tt
  referred_elsewhere more each (r ∷ v ∷ vs) others = (others.0, each vs others.1.1)

  -- The values that formal parameters get refer elsewhere where the operands do (6.4.1).
  pub given_values_elsewhere :
      (actuals : List ActualForm) (vs : List Value) → AreElsewhere ghosts unnamed vs → AreElsewhere ghosts unnamed (given_values actuals vs)
  given_values_elsewhere [] vs others = tt
  given_values_elsewhere (in_value e ∷ rest) vs others = one_elsewhere (given_values rest) (given_values_elsewhere rest) vs others
  given_values_elsewhere (in_null ∷ rest) vs others = one_elsewhere (given_values rest) (given_values_elsewhere rest) vs others
  given_values_elsewhere (in_access path ∷ rest) vs others = one_elsewhere (given_values rest) (given_values_elsewhere rest) vs others
  given_values_elsewhere (in_record q ∷ rest) vs others = one_elsewhere (given_values rest) (given_values_elsewhere rest) vs others
  given_values_elsewhere (in_out_path path ∷ rest) vs others = one_elsewhere (given_values rest) (given_values_elsewhere rest) vs others
  given_values_elsewhere (in_out_access path ∷ rest) vs others = one_elsewhere (given_values rest) (given_values_elsewhere rest) vs others
  given_values_elsewhere (in_out_component path ∷ rest) vs others = value_elsewhere (given_values rest) (given_values_elsewhere rest) vs others
  given_values_elsewhere (in_out_record q ∷ rest) vs others = one_elsewhere (given_values rest) (given_values_elsewhere rest) vs others

  -- So do the references to components.
  pub references_elsewhere :
      (actuals : List ActualForm) (vs : List Value) → AreElsewhere ghosts unnamed vs → AreElsewhere ghosts unnamed (references_in actuals vs)
  references_elsewhere [] vs others = tt
  references_elsewhere (in_value e ∷ rest) vs others = none_elsewhere (references_in rest) (references_elsewhere rest) vs others
  references_elsewhere (in_null ∷ rest) vs others = none_elsewhere (references_in rest) (references_elsewhere rest) vs others
  references_elsewhere (in_access path ∷ rest) vs others = none_elsewhere (references_in rest) (references_elsewhere rest) vs others
  references_elsewhere (in_record q ∷ rest) vs others = none_elsewhere (references_in rest) (references_elsewhere rest) vs others
  references_elsewhere (in_out_path path ∷ rest) vs others = none_elsewhere (references_in rest) (references_elsewhere rest) vs others
  references_elsewhere (in_out_access path ∷ rest) vs others = none_elsewhere (references_in rest) (references_elsewhere rest) vs others
  references_elsewhere (in_out_component path ∷ rest) vs others = referred_elsewhere (references_in rest) (references_elsewhere rest) vs others
  references_elsewhere (in_out_record q ∷ rest) vs others = none_elsewhere (references_in rest) (references_elsewhere rest) vs others

  -- What formal parameters give back to components refers elsewhere where what they hold does.
  pub stored_elsewhere : (actuals : List ActualForm) (vs : List Value) → AreElsewhere ghosts unnamed vs → AreElsewhere ghosts unnamed (stored_back actuals vs)
  stored_elsewhere [] vs others = tt
  stored_elsewhere (a ∷ rest) [] others = tt
  stored_elsewhere (in_value e ∷ rest) (v ∷ vs) others = stored_elsewhere rest vs others.1
  stored_elsewhere (in_null ∷ rest) (v ∷ vs) others = stored_elsewhere rest vs others.1
  stored_elsewhere (in_access path ∷ rest) (v ∷ vs) others = stored_elsewhere rest vs others.1
  stored_elsewhere (in_record q ∷ rest) (v ∷ vs) others = stored_elsewhere rest vs others.1
  stored_elsewhere (in_out_path path ∷ rest) (v ∷ vs) others = stored_elsewhere rest vs others.1
  stored_elsewhere (in_out_access path ∷ rest) (v ∷ vs) others = stored_elsewhere rest vs others.1
  stored_elsewhere (in_out_component path ∷ rest) (v ∷ vs) others = (others.0, stored_elsewhere rest vs others.1)
  stored_elsewhere (in_out_record q ∷ rest) (v ∷ vs) others = stored_elsewhere rest vs others.1

  -- So does what the caller's variables hold then.
  pub copied_elsewhere :
      (actuals : List ActualForm) (vs places : List Value) → AreElsewhere ghosts unnamed vs → AreElsewhere ghosts unnamed places
      → AreElsewhere ghosts unnamed (copied_back actuals vs places)
  copied_elsewhere [] vs places others held = held
  copied_elsewhere (a ∷ rest) [] places others held = held
  copied_elsewhere (in_value e ∷ rest) (v ∷ vs) places others held = copied_elsewhere rest vs places others.1 held
  copied_elsewhere (in_null ∷ rest) (v ∷ vs) places others held = copied_elsewhere rest vs places others.1 held
  copied_elsewhere (in_access path ∷ rest) (v ∷ vs) places others held = copied_elsewhere rest vs places others.1 held
  copied_elsewhere (in_record q ∷ rest) (v ∷ vs) places others held = copied_elsewhere rest vs places others.1 held
  copied_elsewhere (in_out_path path ∷ rest) (v ∷ vs) places others held =
      copied_elsewhere rest vs (slice_set places path.root v) others.1 (elsewhere_set places path.root v others.0 held)
  copied_elsewhere (in_out_access path ∷ rest) (v ∷ vs) places others held =
      copied_elsewhere rest vs (slice_set places path.root v) others.1 (elsewhere_set places path.root v others.0 held)
  copied_elsewhere (in_out_component path ∷ rest) (v ∷ vs) places others held = copied_elsewhere rest vs places others.1 held
  copied_elsewhere (in_out_record q ∷ rest) (v ∷ vs) places others held = copied_elsewhere rest vs places others.1 held
