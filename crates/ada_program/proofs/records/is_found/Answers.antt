-- With each component that is entered, one type less is left.
use Rattle.std.proofs.Common.{◌≡◌, ℕ, zero, suc, ◌+◌, ◌-◌, ◌<◌, ◌≤◌, ◌||◌, true, false, List, length, Option, refl, sym, ap, ◌∙◌, arith}
use Rattle.ada_program.specs.declared.records.RecordPlace.{RecordPlace}
use Rattle.ada_program.specs.Kept.{types_in}
use Rattle.ada_program.specs.ProgramForm.{TypeForm, type_form}
use Rattle.ada_program.specs.WellFormed.{is_whole, is_found, place_inside}
use Rattle.ada_program.proofs.Viewed.{length_viewed}
use Rattle.ada_program.proofs.records.is_found.Goals as goal

-- what is the record itself is found
whole_found : (types : List TypeForm) (n t : ℕ) (at : Option RecordPlace) → is_whole t at ≡ true → is_found types n t at ≡ true
whole_found types zero t at is = is
whole_found types (suc n) t at is = ap (λ b. b || is_found types n t (place_inside types at)) is

-- what is not is found inside, if at all
inside_found : (types : List TypeForm) (n i m t : ℕ) (at : Option RecordPlace) → m ≡ n - i → i < n → is_whole t at ≡ false
    → is_found types (n - (i + 1)) t (place_inside types at) ≡ is_found types m t at
inside_found types n i zero t at is within other = absurd (omega (arith, is, within))
inside_found types n i (suc m) t at is within other =
    let less : n - (i + 1) ≡ m = omega (arith, is) in
    ap (λ k. is_found types k t (place_inside types at)) less ∙ sym (ap (λ b. b || is_found types m t (place_inside types at)) other)

-- where no type is left, only the record itself is found
last_found : (types : List TypeForm) (n i t : ℕ) (at : Option RecordPlace) → n ≤ i → is_whole t at ≡ is_found types (n - i) t at
last_found types n i t at all = let none : 0 ≡ n - i = omega (arith, all) in ap (λ k. is_found types k t at) none

pub deeper-init : goal.deeper-init
deeper-init c =
    let forms = types_in c.args.types.now in
    let all : length forms - 0 ≡ length forms = omega arith in
    ap (λ n. is_found forms n c.args.number c.args.place) all

pub deeper-preserved : goal.deeper-preserved
deeper-preserved c =
    let forms = types_in c.args.types.now in
    let counted = length_viewed type_form c.args.types.now in
    let left = length forms - c.deeper._definition-index in
    let within : c.deeper._definition-index < length forms = omega (arith, counted, c.deeper-test.true) in
    ap (λ at. is_found forms (length forms - (c.deeper._definition-index + 1)) c.args.number at) c.place_inside-at.ensures
    ∙ inside_found forms (length forms) c.deeper._definition-index left c.args.number c.deeper.at refl within (sym c.is_whole.ensures ∙ c.if-is_whole.false)
    ∙ c.deeper.invariant

pub returns-then-is_whole : goal.returns-then-is_whole
returns-then-is_whole c =
    let forms = types_in c.args.types.now in
    let found = whole_found forms (length forms - c.deeper._definition-index) c.args.number c.deeper.at (sym c.is_whole.ensures ∙ c.if-is_whole.true) in
    sym found ∙ c.deeper.invariant

pub returns : goal.returns
returns c =
    let forms = types_in c.args.types.now in
    let counted = length_viewed type_form c.args.types.now in
    c.is_whole-2.ensures ∙ last_found forms (length forms) c.deeper._definition-index c.args.number c.deeper.at (omega (arith, counted, c.deeper-test.false)) ∙ c.deeper.invariant
