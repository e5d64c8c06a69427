-- What formal parameters give back to components.

use Rattle.std.proofs.Common.{◌≡◌, ◌⊎◌, inl, inr, ℕ, ◌+◌, ◌-◌, ◌<◌, ◌≤◌, cond, List, [], ◌∷◌, length, map, drop, get_or, refl, sym, ap, ◌∙◌, arith}
use Rattle.std.proofs.lemmas.List.{drop_all, drop_more}
use Rattle.ada_program.specs.declared.program.Actual.{Actual}
use Rattle.ada_program.specs.Form.{ActualForm, in_value, in_null, in_access, in_record, in_out_path, in_out_access, in_out_component, in_out_record, actual_form}
use Rattle.ada_meaning.specs.declared.state.Value.{Value}
use Rattle.ada_meaning.specs.Step.{stored_back}
use Rattle.ada_interpreter.specs.Activations.{is_component}

-- what goes back to components, with that of one formal parameter more
pub stored_more : (a : ActualForm) (rest : List ActualForm) (v : Value) (vs : List Value) → stored_back (a ∷ rest) (v ∷ vs) ≡ cond (is_component a) (v ∷ stored_back rest vs) (stored_back rest vs)
stored_more (in_value e) rest v vs = refl
stored_more in_null rest v vs = refl
stored_more (in_access path) rest v vs = refl
stored_more (in_record p) rest v vs = refl
stored_more (in_out_path path) rest v vs = refl
stored_more (in_out_access path) rest v vs = refl
stored_more (in_out_component path) rest v vs = refl
stored_more (in_out_record p) rest v vs = refl

-- the elements from one before on
drop_before : {X : Type 0} (xs : List X) (left : ℕ) (d : X) → 0 < left → left ≤ length xs → drop (left - 1) xs ≡ get_or xs (left - 1) d ∷ drop left xs
drop_before xs left d some within =
    let count : left - 1 + 1 ≡ left = omega (arith, some) in
    drop_more xs (left - 1) d (omega arith) ∙ ap (λ (n : ℕ). get_or xs (left - 1) d ∷ drop n xs) count

-- where no more formal or actual parameters are left, nothing goes back to components
none_held : (actuals : List ActualForm) → stored_back {V = Value} actuals [] ≡ []
none_held [] = refl
none_held (a ∷ rest) = refl

pub none_stored : (actuals : List Actual) (formals : List Value) (left : ℕ) → (length actuals ≤ left) ⊎ (length formals ≤ left) → stored_back (map actual_form (drop left actuals)) (drop left formals) ≡ []
none_stored actuals formals left (inl past) = rw (drop_all left actuals past) refl
none_stored actuals formals left (inr past) = rw (drop_all left formals past) (none_held (map actual_form (drop left actuals)))

-- what goes back to components from one formal parameter before on
pub stored_before : (actuals : List Actual) (formals : List Value) (left : ℕ) (a : Actual) (d : Value) → 0 < left → left ≤ length actuals → left ≤ length formals → a ≡ get_or actuals (left - 1) a → stored_back (map actual_form (drop (left - 1) actuals)) (drop (left - 1) formals) ≡ cond (is_component (actual_form a)) (get_or formals (left - 1) d ∷ stored_back (map actual_form (drop left actuals)) (drop left formals)) (stored_back (map actual_form (drop left actuals)) (drop left formals))
stored_before actuals formals left a d some first second here =
    let rest = map actual_form (drop left actuals) in
    rw (drop_before actuals left a some first, drop_before formals left d some second, sym here)
    (stored_more (actual_form a) rest (get_or formals (left - 1) d) (drop left formals))
