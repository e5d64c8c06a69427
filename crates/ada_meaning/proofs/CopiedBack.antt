-- What a caller gets back where the body of its call ends.

use Rattle.std.proofs.Common.{◌≡◌, ℕ, ◌<◌, inl, inr, List, [], ◌∷◌, ◌++◌, length, Some, arith, refl, sym, ap, ◌∙◌, subst}
use Rattle.std.specs.List.{slice_get, slice_set}
use Rattle.ada_program.specs.Form.{ActualForm, in_value, in_null, in_access, in_record, in_out_path, in_out_access, in_out_component, in_out_record}
use Rattle.ada_meaning.specs.declared.state.Value.{Value}
use Rattle.ada_meaning.specs.State.{Activation}
use Rattle.ada_meaning.specs.Step.{older, places_of, operands_of, with_places, with_operands, copied_back, stored_back}
use Rattle.ada_meaning.specs.Calls.{callers_in, variable_given, IsGiven, GoBack, none, no_more, skips, takes, GetsBack, ComesBack}
use Rattle.ada_meaning.proofs.Records.{get_set, get_other, set_length}

-- As many variables as before are there.
length_back : (actuals : List ActualForm) (vs places : List Value) → length (copied_back actuals vs places) ≡ length places
length_back [] vs places = refl
length_back (a ∷ rest) [] places = refl
length_back (in_value e ∷ rest) (v ∷ vs) places = length_back rest vs places
length_back (in_null ∷ rest) (v ∷ vs) places = length_back rest vs places
length_back (in_access path ∷ rest) (v ∷ vs) places = length_back rest vs places
length_back (in_record p ∷ rest) (v ∷ vs) places = length_back rest vs places
length_back (in_out_component path ∷ rest) (v ∷ vs) places = length_back rest vs places
length_back (in_out_record p ∷ rest) (v ∷ vs) places = length_back rest vs places
length_back (in_out_path path ∷ rest) (v ∷ vs) places = length_back rest vs (slice_set places path.root v) ∙ set_length places path.root v
length_back (in_out_access path ∷ rest) (v ∷ vs) places = length_back rest vs (slice_set places path.root v) ∙ set_length places path.root v

-- A variable that is given for no formal parameter of mode `in out` holds what it held.
others_hold :
    (actuals : List ActualForm) (vs places : List Value) (x : ℕ) → (IsGiven x actuals → ⊥)
    → slice_get (copied_back actuals vs places) x ≡ slice_get places x
others_hold [] vs places x apart = refl
others_hold (a ∷ rest) [] places x apart = refl
others_hold (in_value e ∷ rest) (v ∷ vs) places x apart = others_hold rest vs places x (λ given. apart (inr given))
others_hold (in_null ∷ rest) (v ∷ vs) places x apart = others_hold rest vs places x (λ given. apart (inr given))
others_hold (in_access path ∷ rest) (v ∷ vs) places x apart = others_hold rest vs places x (λ given. apart (inr given))
others_hold (in_record p ∷ rest) (v ∷ vs) places x apart = others_hold rest vs places x (λ given. apart (inr given))
others_hold (in_out_component path ∷ rest) (v ∷ vs) places x apart = others_hold rest vs places x (λ given. apart (inr given))
others_hold (in_out_record p ∷ rest) (v ∷ vs) places x apart = others_hold rest vs places x (λ given. apart (inr given))
others_hold (in_out_path path ∷ rest) (v ∷ vs) places x apart =
    others_hold rest vs (slice_set places path.root v) x (λ given. apart (inr given))
    ∙ get_other places path.root x v (λ same. apart (inl (ap Some (sym same))))
others_hold (in_out_access path ∷ rest) (v ∷ vs) places x apart =
    others_hold rest vs (slice_set places path.root v) x (λ given. apart (inr given))
    ∙ get_other places path.root x v (λ same. apart (inl (ap Some (sym same))))

-- One that is given holds what the last formal parameter holds for which it is given.
set_holds : (places : List Value) (root x : ℕ) (v : Value) → Some root ≡ Some x → x < length places → slice_get (slice_set places root v) x ≡ Some v
set_holds places root x v is within =
    let same : x ≡ root = cc in
    subst (λ (n : ℕ). slice_get (slice_set places n v) x ≡ Some v) same (get_set places x v within)

given_holds :
    (a : ActualForm) (behind : List ActualForm) (x : ℕ) (v : Value) (vs places : List Value) → variable_given a ≡ Some x → (IsGiven x behind → ⊥)
    → x < length places → slice_get (copied_back (a ∷ behind) (v ∷ vs) places) x ≡ Some v
given_holds (in_value e) behind x v vs places gives last within = absurd (cc)
given_holds in_null behind x v vs places gives last within = absurd (cc)
given_holds (in_access path) behind x v vs places gives last within = absurd (cc)
given_holds (in_record p) behind x v vs places gives last within = absurd (cc)
given_holds (in_out_component path) behind x v vs places gives last within = absurd (cc)
given_holds (in_out_record p) behind x v vs places gives last within = absurd (cc)
given_holds (in_out_path path) behind x v vs places gives last within =
    others_hold behind vs (slice_set places path.root v) x last ∙ set_holds places path.root x v gives within
given_holds (in_out_access path) behind x v vs places gives last within =
    others_hold behind vs (slice_set places path.root v) x last ∙ set_holds places path.root x v gives within

last_holds :
    (front behind : List ActualForm) (a : ActualForm) (x : ℕ) (held : Value) (vs places : List Value) → variable_given a ≡ Some x
    → (IsGiven x behind → ⊥) → slice_get vs (length front) ≡ Some held → x < length places
    → slice_get (copied_back (front ++ a ∷ behind) vs places) x ≡ Some held
last_holds [] behind a x held [] places gives last is within = absurd (cc)
last_holds [] behind a x held (v ∷ vs) places gives last is within = given_holds a behind x v vs places gives last within ∙ is
last_holds (b ∷ front) behind a x held [] places gives last is within = absurd (cc)
last_holds (in_value e ∷ front) behind a x held (v ∷ vs) places gives last is within = last_holds front behind a x held vs places gives last is within
last_holds (in_null ∷ front) behind a x held (v ∷ vs) places gives last is within = last_holds front behind a x held vs places gives last is within
last_holds (in_access path ∷ front) behind a x held (v ∷ vs) places gives last is within = last_holds front behind a x held vs places gives last is within
last_holds (in_record p ∷ front) behind a x held (v ∷ vs) places gives last is within = last_holds front behind a x held vs places gives last is within
last_holds (in_out_component path ∷ front) behind a x held (v ∷ vs) places gives last is within =
    last_holds front behind a x held vs places gives last is within
last_holds (in_out_record p ∷ front) behind a x held (v ∷ vs) places gives last is within =
    last_holds front behind a x held vs places gives last is within
last_holds (in_out_path path ∷ front) behind a x held (v ∷ vs) places gives last is within =
    last_holds front behind a x held vs (slice_set places path.root v) gives last is (omega (arith, within, set_length places path.root v))
last_holds (in_out_access path ∷ front) behind a x held (v ∷ vs) places gives last is within =
    last_holds front behind a x held vs (slice_set places path.root v) gives last is (omega (arith, within, set_length places path.root v))

-- What goes back to components.
go_back : (actuals : List ActualForm) (vs : List Value) → GoBack actuals vs (stored_back actuals vs)
go_back [] vs = none
go_back (a ∷ rest) [] = no_more
go_back (in_value e ∷ rest) (v ∷ vs) = skips (λ never. never) (go_back rest vs)
go_back (in_null ∷ rest) (v ∷ vs) = skips (λ never. never) (go_back rest vs)
go_back (in_access path ∷ rest) (v ∷ vs) = skips (λ never. never) (go_back rest vs)
go_back (in_record p ∷ rest) (v ∷ vs) = skips (λ never. never) (go_back rest vs)
go_back (in_out_path path ∷ rest) (v ∷ vs) = skips (λ never. never) (go_back rest vs)
go_back (in_out_access path ∷ rest) (v ∷ vs) = skips (λ never. never) (go_back rest vs)
go_back (in_out_component path ∷ rest) (v ∷ vs) = takes tt (go_back rest vs)
go_back (in_out_record p ∷ rest) (v ∷ vs) = skips (λ never. never) (go_back rest vs)

gets_back :
    (actuals : List ActualForm) (callee caller : Activation Value)
    → GetsBack actuals callee caller (record caller {
      places = copied_back actuals callee.places caller.places;
      operands = stored_back actuals callee.places ++ caller.operands;
    })
gets_back actuals callee caller = record {
  procedure = refl;
  operands = (stored_back actuals callee.places, go_back actuals callee.places, refl);
  count = length_back actuals callee.places caller.places;
  others = λ x apart. others_hold actuals callee.places caller.places x apart;
  back = λ front behind a x held is gives last there within.
      subst (λ (all : List ActualForm). slice_get (copied_back all callee.places caller.places) x ≡ Some held) (sym is)
      (last_holds front behind a x held callee.places caller.places gives last there within);
}

-- So it is among all activations, where the body ends normally; where it ends otherwise, its callers are left.
pub comes_back :
    (actuals : List ActualForm) (before : List (Activation Value))
    → ComesBack actuals before (with_operands (stored_back actuals (places_of before) ++ operands_of (older before))
    (with_places (copied_back actuals (places_of before) (places_of (older before))) (older before)))
comes_back actuals [] = refl
comes_back actuals (callee ∷ []) = refl
comes_back actuals (callee ∷ caller ∷ suspended) = (refl, gets_back actuals callee caller)

pub older_callers : (before : List (Activation Value)) → older before ≡ callers_in before
older_callers [] = refl
older_callers (running ∷ callers) = refl
