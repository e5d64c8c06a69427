-- Over any run each object has the parts of its type, and each of them begins where it began.

use Rattle.std.proofs.Common.{◌≡◌, ℕ, zero, suc, ◌+◌, List, [], ◌∷◌, ◌++◌, map, Option, Some, None, refl, sym, ap, ◌∙◌, subst}
use Rattle.std.specs.List.{slice_get, slice_set}
use Rattle.ada_program.specs.declared.program.Program.{Program}
use Rattle.ada_program.specs.declared.program.TypeDefinition.{TypeDefinition}
use Rattle.ada_program.specs.Controlled.{number_reached, part_firsts}
use Rattle.ada_meaning.specs.declared.state.Id.{Id}
use Rattle.ada_meaning.specs.declared.state.Value.{Value}
use Rattle.ada_meaning.specs.declared.state.Value.TheVariants.{Null, Names, Scalar, Part}
use Rattle.ada_meaning.specs.Heap.{PartState}
use Rattle.ada_meaning.specs.Step.{new_part, stored_from}
use Rattle.ada_meaning.specs.Named.{Object, State, named, changed, on_object, parted, finished, returned, filled, born_part, finalized_part, with_part, treated, store}
use Rattle.ada_meaning.specs.Run.{Event, Run, here, there, first_state}
use Rattle.ada_meaning.specs.Places.{PartsStayInPlace}
use Rattle.ada_meaning.proofs.Deeds.{Deed, same, adds, parts, finishes, fills, bears, finalizes, returns, step_deed}

abbrev Heap : Type 0
Heap = List Object

-- Where the parts of an object begin.
abbrev firsts : List PartState → List ℕ
firsts ps = map (λ p. p.first) ps

module _ (types : List TypeDefinition) where
  -- An object has the parts of its type.
  abbrev Has : Object → Type 0
  Has x = firsts x.cell.parts ≡ part_firsts types (number_reached types x.cell.access)

  -- So does each of these.
  abbrev Have : Heap → Type 0
  Have [] = Unit {0}
  Have (x ∷ xs) = Has x × Have xs

  have_one : (xs : Heap) (i : ℕ) (x : Object) → Have xs → slice_get xs i ≡ Some x → Has x
  have_one [] i x have at = absurd (cc at)
  have_one (y ∷ xs) zero x have at = let one : y ≡ x = cc in subst Has one have.0
  have_one (y ∷ xs) (suc i) x have at = have_one xs i x have.1 at

  have_more : (xs : Heap) (y : Object) → Have xs → Has y → Have (xs ++ y ∷ [])
  have_more [] y have has = (has, tt)
  have_more (x ∷ xs) y have has = (have.0, have_more xs y have.1 has)

  have_set : (xs : Heap) (i : ℕ) (y : Object) → Have xs → Has y → Have (slice_set xs i y)
  have_set [] i y have has = tt
  have_set (x ∷ xs) zero y have has = (has, have.1)
  have_set (x ∷ xs) (suc i) y have has = (have.0, have_set xs i y have.1 has)

  have_changed : (change : Object → Object) (at_o : Option Object) (xs : Heap) (o : Id) → ((x : Object) → Has x → Has (change x)) → slice_get xs o.0 ≡ at_o
      → Have xs → Have (changed change at_o xs o)
  have_changed change None xs o keeps at have = have
  have_changed change (Some x) xs o keeps at have = have_set xs o.0 (change x) have (keeps x (have_one xs o.0 x have at))

  have_on : (change : Object → Object) (xs : Heap) (v : Value) → ((x : Object) → Has x → Has (change x)) → Have xs → Have (on_object change xs v)
  have_on change xs Null keeps have = have
  have_on change xs (Names o) keeps have = have_changed change (slice_get xs o.0) xs o keeps refl have
  have_on change xs (Scalar v) keeps have = have
  have_on change xs (Part o place) keeps have = have

  have_stored : (xs : Heap) (o : Value) (c : ℕ) (vs : List Value) → Have xs → Have (stored_from named xs o c vs)
  have_stored xs o c [] have = have
  have_stored xs o c (v ∷ vs) have = have_stored (store xs o c v) o (c + 1) vs (have_on (filled c v) xs o (λ x has. has) have)

  -- A part that comes to have a value, or whose value is finalized, stays where it begins.
  firsts_set : (ps : List PartState) (i : ℕ) (p q : PartState) → slice_get ps i ≡ Some p → q.first ≡ p.first → firsts (slice_set ps i q) ≡ firsts ps
  firsts_set [] i p q at is = refl
  firsts_set (r ∷ ps) zero p q at is = let one : r ≡ p = cc in ap (λ (c : ℕ). c ∷ firsts ps) (is ∙ ap (λ (t : PartState). t.first) (sym one))
  firsts_set (r ∷ ps) (suc i) p q at is = ap (λ (cs : List ℕ). r.first ∷ cs) (firsts_set ps i p q at is)

  firsts_with :
      (change : PartState → PartState) (part : ℕ) (at_part : Option PartState) (ps : List PartState) → ((p : PartState) → (change p).first ≡ p.first)
      → slice_get ps part ≡ at_part → firsts (with_part change part at_part ps) ≡ firsts ps
  firsts_with change part None ps keeps at = refl
  firsts_with change part (Some p) ps keeps at = firsts_set ps part p (change p) at (keeps p)

  has_treated : (change : PartState → PartState) (part : ℕ) (x : Object) → ((p : PartState) → (change p).first ≡ p.first) → Has x → Has (treated change part x)
  has_treated change part x keeps has = firsts_with change part (slice_get x.cell.parts part) x.cell.parts keeps refl ∙ has

  -- A new object has them.
  firsts_new : (cs : List ℕ) → firsts (map new_part cs) ≡ cs
  firsts_new [] = refl
  firsts_new (c ∷ cs) = ap (λ (ds : List ℕ). c ∷ ds) (firsts_new cs)

  deed_has : (xs : Heap) (e : Event) (ys : Heap) → Deed types xs e ys → Have xs → Have ys
  deed_has xs e ys (same b is) have = subst Have (sym is) have
  deed_has xs e ys (adds x b new is) have =
      subst Have (sym is) (have_more xs x have (ap firsts new ∙ firsts_new (part_firsts types (number_reached types x.cell.access))))
  deed_has xs e ys (parts v b is) have = subst Have (sym is) (have_on parted xs v (λ x has. has) have)
  deed_has xs e ys (finishes v b is) have = subst Have (sym is) (have_on finished xs v (λ x has. has) have)
  deed_has xs e ys (fills o c vs b is) have = subst Have (sym is) (have_stored xs o c vs have)
  deed_has xs e ys (bears v part number b is) have =
      subst Have (sym is) (have_on (treated (born_part number) part) xs v (λ x has. has_treated (born_part number) part x (λ p. refl) has) have)
  deed_has xs e ys (finalizes v part b is) have =
      subst Have (sym is) (have_on (treated finalized_part part) xs v (λ x has. has_treated finalized_part part x (λ p. refl) has) have)
  deed_has xs e ys (returns o x b was out is) have =
      subst Have (sym is) (have_set xs o.0 (returned x) have (have_one xs o.0 x have was))

run_has : (program : Program) (s last : State) (events : List Event) → Run program s events last → Have program.types.items s.heap
    → Have program.types.items last.heap
run_has program s last events here have = have
run_has program s last (e ∷ events) (there choice mid step rest) have =
    run_has program mid last events rest (deed_has program.types.items s.heap e mid.heap (step_deed program s mid choice e step) have)

pub parts_stay_in_place : PartsStayInPlace
parts_stay_in_place program input events last o object run at =
    have_one program.types.items last.heap o.0 object (run_has program (first_state program input) last events run tt) at
