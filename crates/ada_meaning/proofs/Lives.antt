-- Objects over any run: each keeps its name, is gone for ever, and gives its words back once.

use Rattle.std.proofs.Common.{◌≡◌, ℕ, zero, suc, ◌+◌, true, false, List, [], ◌∷◌, ◌++◌, Option, Some, None, arith, refl, sym, ap, ◌∙◌, subst}
use Rattle.std.specs.List.{slice_get, slice_set, AllPairs, AllByRecursion}
use Rattle.std.proofs.lemmas.List.Elements.{All-from_recursion}
use Rattle.std.proofs.lemmas.List.Kept.{AllPairs-cons}
use Rattle.ada_program.specs.declared.program.Program.{Program}
use Rattle.ada_program.specs.declared.program.TypeDefinition.{TypeDefinition}
use Rattle.ada_meaning.specs.declared.state.Id.{Id}
use Rattle.ada_meaning.specs.declared.state.Value.{Value}
use Rattle.ada_meaning.specs.declared.state.Value.TheVariants.{Null, Names, Scalar, Part}
use Rattle.ada_meaning.specs.declared.state.Stage.TheVariants.{Gone}
use Rattle.ada_meaning.specs.Heap.{PartState}
use Rattle.ada_meaning.specs.Named.{Object, State, named, object_at, changed, on_object, parted, finished, returned, filled, born_part, finalized_part, treated, store}
use Rattle.ada_meaning.specs.Step.{stored_from}
use Rattle.ada_meaning.specs.Run.{Event, Choice, Step, Run, here, there}
use Rattle.ada_meaning.specs.Law.{back_of, Differ, BackTwoObjects}
use Rattle.ada_meaning.specs.Life.{Remains, KeepsObjects}
use Rattle.ada_meaning.proofs.Deeds.{Deed, same, adds, parts, finishes, fills, bears, finalizes, returns, step_deed}

abbrev Heap : Type 0
Heap = List Object

-- An object remains what it was.
remains_same : (x : Object) → Remains x x
remains_same x = record { access = refl; number = refl; home = refl; gone = λ g. g; unlisted = λ u. u; back = λ b. b }

remains_parted : (x : Object) → Remains x (parted x)
remains_parted x = record { access = refl; number = refl; home = refl; gone = λ g. g; unlisted = λ u. refl; back = λ b. b }

remains_finished : (x : Object) → Remains x (finished x)
remains_finished x = record { access = refl; number = refl; home = refl; gone = λ g. refl; unlisted = λ u. refl; back = λ b. b }

remains_filled : (c : ℕ) (v : Value) (x : Object) → Remains x (filled c v x)
remains_filled c v x = record { access = refl; number = refl; home = refl; gone = λ g. g; unlisted = λ u. u; back = λ b. b }

remains_returned : (x : Object) → Remains x (returned x)
remains_returned x = record { access = refl; number = refl; home = refl; gone = λ g. g; unlisted = λ u. u; back = λ b. refl }

remains_treated : (change : PartState → PartState) (part : ℕ) (x : Object) → Remains x (treated change part x)
remains_treated change part x = record { access = refl; number = refl; home = refl; gone = λ g. g; unlisted = λ u. u; back = λ b. b }

remains_later : (x y z : Object) → Remains x y → Remains y z → Remains x z
remains_later x y z a b = record {
  access = b.access ∙ a.access;
  number = b.number ∙ a.number;
  home = b.home ∙ a.home;
  gone = λ g. b.gone (a.gone g);
  unlisted = λ u. b.unlisted (a.unlisted u);
  back = λ g. b.back (a.back g);
}

-- Each name keeps its object.
keeps_same : (xs : Heap) → KeepsObjects xs xs
keeps_same [] = tt
keeps_same (x ∷ xs) = (remains_same x, keeps_same xs)

keeps_more : (xs : Heap) (y : Object) → KeepsObjects xs (xs ++ y ∷ [])
keeps_more [] y = tt
keeps_more (x ∷ xs) y = (remains_same x, keeps_more xs y)

keeps_set : (xs : Heap) (i : ℕ) (x y : Object) → slice_get xs i ≡ Some x → Remains x y → KeepsObjects xs (slice_set xs i y)
keeps_set [] i x y is r = tt
keeps_set (z ∷ xs) zero x y is r = let one : x ≡ z = cc in (subst (λ (o : Object). Remains o y) one r, keeps_same xs)
keeps_set (z ∷ xs) (suc i) x y is r = (remains_same z, keeps_set xs i x y is r)

keeps_changed : (change : Object → Object) (at_o : Option Object) (xs : Heap) (o : Id) → ((x : Object) → Remains x (change x)) → slice_get xs o.0 ≡ at_o → KeepsObjects xs (changed change at_o xs o)
keeps_changed change None xs o r is = keeps_same xs
keeps_changed change (Some x) xs o r is = keeps_set xs o.0 x (change x) is (r x)

keeps_on : (change : Object → Object) (xs : Heap) (v : Value) → ((x : Object) → Remains x (change x)) → KeepsObjects xs (on_object change xs v)
keeps_on change xs Null r = keeps_same xs
keeps_on change xs (Names o) r = keeps_changed change (slice_get xs o.0) xs o r refl
keeps_on change xs (Scalar v) r = keeps_same xs
keeps_on change xs (Part o first) r = keeps_same xs

keeps_later : (xs ys zs : Heap) → KeepsObjects xs ys → KeepsObjects ys zs → KeepsObjects xs zs
keeps_later [] ys zs a b = tt
keeps_later (x ∷ xs) [] zs a b = absurd a
keeps_later (x ∷ xs) (y ∷ ys) [] a b = absurd b
keeps_later (x ∷ xs) (y ∷ ys) (z ∷ zs) a b = (remains_later x y z a.0 b.0, keeps_later xs ys zs a.1 b.1)

keeps_stored : (xs : Heap) (o : Value) (c : ℕ) (vs : List Value) → KeepsObjects xs (stored_from named xs o c vs)
keeps_stored xs o c [] = keeps_same xs
keeps_stored xs o c (v ∷ vs) =
    keeps_later xs (store xs o c v) (stored_from named (store xs o c v) o (c + 1) vs) (keeps_on (filled c v) xs o (remains_filled c v)) (keeps_stored (store xs o c v) o (c + 1) vs)

deed_keeps : (types : List TypeDefinition) (xs : Heap) (e : Event) (ys : Heap) → Deed types xs e ys → KeepsObjects xs ys
deed_keeps types xs e ys (same b is) = subst (λ (zs : Heap). KeepsObjects xs zs) (sym is) (keeps_same xs)
deed_keeps types xs e ys (adds x b new is) = subst (λ (zs : Heap). KeepsObjects xs zs) (sym is) (keeps_more xs x)
deed_keeps types xs e ys (parts v b is) = subst (λ (zs : Heap). KeepsObjects xs zs) (sym is) (keeps_on parted xs v remains_parted)
deed_keeps types xs e ys (finishes v b is) = subst (λ (zs : Heap). KeepsObjects xs zs) (sym is) (keeps_on finished xs v remains_finished)
deed_keeps types xs e ys (fills o c vs b is) = subst (λ (zs : Heap). KeepsObjects xs zs) (sym is) (keeps_stored xs o c vs)
deed_keeps types xs e ys (bears v part number b is) =
    subst (λ (zs : Heap). KeepsObjects xs zs) (sym is) (keeps_on (treated (born_part number) part) xs v (remains_treated (born_part number) part))
deed_keeps types xs e ys (finalizes v part b is) =
    subst (λ (zs : Heap). KeepsObjects xs zs) (sym is) (keeps_on (treated finalized_part part) xs v (remains_treated finalized_part part))
deed_keeps types xs e ys (returns o x b was out is) = subst (λ (zs : Heap). KeepsObjects xs zs) (sym is) (keeps_set xs o.0 x (returned x) was (remains_returned x))

-- Over any run each name keeps its object.
pub names_are_used_once : (program : Program) (s last : State) (events : List Event) → Run program s events last → KeepsObjects s.heap last.heap
names_are_used_once program s last events here = keeps_same s.heap
names_are_used_once program s last (e ∷ events) (there choice mid step rest) =
    keeps_later s.heap mid.heap last.heap (deed_keeps program.types.items s.heap e mid.heap (step_deed program s mid choice e step)) (names_are_used_once program mid last events rest)

-- The object of a name later.
kept_at : (xs ys : Heap) (i : ℕ) (x : Object) → KeepsObjects xs ys → slice_get xs i ≡ Some x → (y : Object) × ((slice_get ys i ≡ Some y) × Remains x y)
kept_at [] ys i x k is = absurd (cc)
kept_at (z ∷ xs) [] i x k is = absurd k
kept_at (z ∷ xs) (y ∷ ys) zero x k is = let one : z ≡ x = cc in (y, (refl, subst (λ (o : Object). Remains o y) one k.0))
kept_at (z ∷ xs) (y ∷ ys) (suc i) x k is = kept_at xs ys i x k.1 is

-- What is gone stays gone.
pub gone_for_ever : (program : Program) (s last : State) (events : List Event) (o : Id) (object : Object) → Run program s events last → object_at s.heap o ≡ Some object → object.stage ≡ Gone → (after : Object) × ((object_at last.heap o ≡ Some after) × (after.stage ≡ Gone))
gone_for_ever program s last events o object run is gone =
    let later = kept_at s.heap last.heap o.0 object (names_are_used_once program s last events run) is in
    (later.0, (later.1.0, later.1.1.gone gone))

-- The words of an object go back once.
set_at : (xs : Heap) (i : ℕ) (x y : Object) → slice_get xs i ≡ Some x → slice_get (slice_set xs i y) i ≡ Some y
set_at [] i x y is = absurd (cc)
set_at (z ∷ xs) zero x y is = refl
set_at (z ∷ xs) (suc i) x y is = set_at xs i x y is

-- The words of an object are back.
abbrev IsBackAt : Heap → Id → Type 0
IsBackAt xs o = (x : Object) × ((object_at xs o ≡ Some x) × (x.out ≡ false))

deed_back : (types : List TypeDefinition) (xs : Heap) (e : Event) (ys : Heap) (o : Id) → Deed types xs e ys → back_of e ≡ Some o → IsBackAt ys o
deed_back types xs e ys o (same b is) back = absurd (cc)
deed_back types xs e ys o (adds x b new is) back = absurd (cc)
deed_back types xs e ys o (parts v b is) back = absurd (cc)
deed_back types xs e ys o (finishes v b is) back = absurd (cc)
deed_back types xs e ys o (fills v c vs b is) back = absurd (cc)
deed_back types xs e ys o (bears v part number b is) back = absurd (cc)
deed_back types xs e ys o (finalizes v part b is) back = absurd (cc)
deed_back types xs e ys o (returns other x b was out is) back =
    let one : other ≡ o = cc in
    let at_other : IsBackAt ys other = (returned x, (ap (λ (zs : Heap). object_at zs other) is ∙ set_at xs other.0 x (returned x) was, refl)) in
    subst (IsBackAt ys) one at_other

deed_differs : (types : List TypeDefinition) (xs : Heap) (e : Event) (ys : Heap) (o : Id) (x : Object) → Deed types xs e ys → object_at xs o ≡ Some x → x.out ≡ false → Differ (Some o) (back_of e)
deed_differs types xs e ys o x (same b is) at_o back = rw b tt
deed_differs types xs e ys o x (adds y b new is) at_o back = rw b tt
deed_differs types xs e ys o x (parts v b is) at_o back = rw b tt
deed_differs types xs e ys o x (finishes v b is) at_o back = rw b tt
deed_differs types xs e ys o x (fills v c vs b is) at_o back = rw b tt
deed_differs types xs e ys o x (bears v part number b is) at_o back = rw b tt
deed_differs types xs e ys o x (finalizes v part b is) at_o back = rw b tt
deed_differs types xs e ys o x (returns other y b was out is) at_o back =
    rw b (λ (one : o ≡ other).
    let twice : Some x ≡ Some y = sym at_o ∙ ap (object_at xs) one ∙ was in
    let alike : x ≡ y = cc in
    let never : true ≡ false = sym out ∙ ap (λ (z : Object). z.out) (sym alike) ∙ back in
    absurd (cc))

never_back : (program : Program) (s last : State) (events : List Event) (o : Id) (x : Object) → Run program s events last → object_at s.heap o ≡ Some x → x.out ≡ false → AllByRecursion (λ e. Differ (Some o) (back_of e)) events
never_back program s last events o x here at_o back = tt
never_back program s last (e ∷ events) o x (there choice mid step rest) at_o back =
    let deed = step_deed program s mid choice e step in
    let later = kept_at s.heap mid.heap o.0 x (deed_keeps program.types.items s.heap e mid.heap deed) at_o in
    (deed_differs program.types.items s.heap e mid.heap o x deed at_o back, never_back program mid last events o later.0 rest later.1.0 (later.1.1.back back))

all_differ : (events : List Event) → AllByRecursion (λ e. Differ None (back_of e)) events
all_differ [] = tt
all_differ (e ∷ events) = (tt, all_differ events)

back_later : (program : Program) (s mid last : State) (e : Event) (events : List Event) (choice : Choice) (back : Option Id) → back_of e ≡ back → Step program s choice e mid → Run program mid events last → AllByRecursion (λ f. Differ back (back_of f)) events
back_later program s mid last e events choice None is step rest = all_differ events
back_later program s mid last e events choice (Some o) is step rest =
    let gone = deed_back program.types.items s.heap e mid.heap o (step_deed program s mid choice e step) is in
    never_back program mid last events o gone.0 rest gone.1.0 gone.1.1

pub back_once : (program : Program) (s last : State) (events : List Event) → Run program s events last → AllPairs BackTwoObjects events
back_once program s last events here = λ i j d lt within. absurd (omega arith)
back_once program s last (e ∷ events) (there choice mid step rest) =
    AllPairs-cons BackTwoObjects e events
    (All-from_recursion (BackTwoObjects e) events (back_later program s mid last e events choice (back_of e) refl step rest))
    (back_once program mid last events rest)
