-- What the laws refuse: events of wrong machines, of an object as in the example, and what is left to do while an operation of it runs.

use Rattle.std.proofs.Common.{◌≡◌, ℕ, [], ◌∷◌, Option, Some, None, refl, ap, inl, inr, arith}
use Rattle.ada_parts.specs.Part.{Part, LiesIn}
use Rattle.ada_parts.specs.Task.{performs}
use Rattle.ada_meaning.specs.declared.state.Value.{Value}
use Rattle.ada_meaning.specs.declared.state.Value.TheVariants.{Names}
use Rattle.ada_meaning.specs.declared.event.Birth.{Birth}
use Rattle.ada_meaning.specs.declared.event.Birth.TheVariants.{Creation, Copy, Adjustment}
use Rattle.ada_meaning.specs.declared.event.Cause.TheVariants.{Freeing, Assigning}
use Rattle.ada_meaning.specs.Frame as frame
use Rattle.ada_meaning.specs.Event.{Born, Finalized, Back, Quiet}
use Rattle.ada_meaning.specs.Run.{Event}
use Rattle.ada_meaning.specs.Law.{ControlledValue, FinalizedTwoValues, Happened}
use Rattle.ada_meaning.specs.Finalization.{Bears, Finalizes, BegunPart, begun_of, FinalizationLaw}
use Rattle.ada_finalized.specs.Law.{NoOperationRunsOn, NothingBegins, IsInside}
use Rattle.ada_finalized.specs.Example.{controlled_shapes}
use Rattle.ada_finalized.proofs.Treated.{none_in, cons_cases}

-- The object, its whole and its component: they come to exist, and are finalized, with these turns; and its words go back.
abbrev it : Value
it = Names (record { 0 = 0 })

abbrev whole_born : Event
whole_born = Born it 0 0 1 2 Creation

abbrev component_born : Event
component_born = Born it 1 0 0 1 Creation

abbrev whole_finalized : (turn : ℕ) → Event
whole_finalized turn = Finalized it 0 turn 1 2 (Freeing 2)

abbrev component_finalized : (turn : ℕ) → Event
component_finalized turn = Finalized it 1 turn 0 1 (Freeing 2)

abbrev it_back : Event
it_back = Back it 2 1 (Some 0) None (Freeing 2)

-- The component lies in the whole.
lies_in : LiesIn controlled_shapes 1 (record { of = 1; number = 0 })
lies_in = record { behind = omega arith; within = omega arith }

abbrev part_in : Option ControlledValue → ℕ
part_in None = 2
part_in (Some v) = v.part

abbrev turn_in : Option ControlledValue → ℕ
turn_in None = 2
turn_in (Some v) = v.turn

abbrev component : (turn : ℕ) → ControlledValue
component turn = record { object = record { 0 = 0 }; part = 1; turn = turn }

-- A component that is initialized after the whole: `parts_first`.
initialized_late : FinalizationLaw controlled_shapes (whole_born ∷ component_born ∷ []) → ⊥
initialized_late law = law.parts_first 0 1 Quiet (omega arith) (omega arith) refl refl lies_in

-- A component that is finalized before the whole: `wholes_first`.
finalized_early : FinalizationLaw controlled_shapes (component_born ∷ whole_born ∷ component_finalized 0 ∷ whole_finalized 0 ∷ it_back ∷ []) → ⊥
finalized_early law = law.wholes_first 2 3 Quiet (omega arith) (omega arith) refl refl lies_in

-- One value that is finalized twice: `finalized_once` of the laws of storage.
finalized_again : FinalizedTwoValues (component_finalized 0) (component_finalized 0) → ⊥
finalized_again differ = differ refl

-- A part that is finalized twice, which counts its values: `is_born`.
born_later : Happened (Bears (component 1)) (component_born ∷ component_finalized 0 ∷ component_finalized 1 ∷ []) → ⊥
born_later (inl h) = let e = ap turn_in h in omega (arith, e)
born_later (inr (inl h)) = let e = ap turn_in h in omega (arith, e)
born_later (inr (inr (inl h))) = let e = ap turn_in h in omega (arith, e)
born_later (inr (inr (inr h))) = absurd h

never_born : FinalizationLaw controlled_shapes (component_born ∷ component_finalized 0 ∷ component_finalized 1 ∷ []) → ⊥
never_born law = born_later (law.is_born 2 Quiet (omega arith))

-- A component that is passed over at the end: `finalized_by_back`.
passed : Happened (Finalizes (component 0)) (component_born ∷ whole_born ∷ whole_finalized 0 ∷ it_back ∷ []) → ⊥
passed (inl h) = let e = ap part_in h in omega (arith, e)
passed (inr (inl h)) = let e = ap part_in h in omega (arith, e)
passed (inr (inr (inl h))) = let e = ap part_in h in omega (arith, e)
passed (inr (inr (inr (inl h)))) = let e = ap part_in h in omega (arith, e)
passed (inr (inr (inr (inr h)))) = absurd h

passed_over : FinalizationLaw controlled_shapes (component_born ∷ whole_born ∷ whole_finalized 0 ∷ it_back ∷ []) → ⊥
passed_over law = passed (law.finalized_by_back (component 0) (inl refl) (inr (inr (inr (inl refl)))))

-- A Free that finalizes nothing: the same field.
kept : Happened (Finalizes (component 0)) (component_born ∷ whole_born ∷ it_back ∷ []) → ⊥
kept (inl h) = let e = ap part_in h in omega (arith, e)
kept (inr (inl h)) = let e = ap part_in h in omega (arith, e)
kept (inr (inr (inl h))) = let e = ap part_in h in omega (arith, e)
kept (inr (inr (inr h))) = absurd h

not_finalized : FinalizationLaw controlled_shapes (component_born ∷ whole_born ∷ it_back ∷ []) → ⊥
not_finalized law = kept (law.finalized_by_back (component 0) (inl refl) (inr (inr (inl refl))))

-- A value that is finalized once the words of its object are back: `nothing_after_back`.
too_late : FinalizationLaw controlled_shapes (component_born ∷ it_back ∷ component_finalized 0 ∷ []) → ⊥
too_late law = (law.nothing_after_back 1 2 Quiet (omega arith) (omega arith)).1 refl

-- A value that comes to exist again: `born_once`, or, where it has been finalized, `born_before`.
born_twice : FinalizationLaw controlled_shapes (component_born ∷ component_born ∷ []) → ⊥
born_twice law = law.born_once 0 1 Quiet (omega arith) (omega arith) refl

born_behind : FinalizationLaw controlled_shapes (component_finalized 0 ∷ component_born ∷ []) → ⊥
born_behind law = law.born_before 0 1 Quiet (omega arith) (omega arith) refl

-- A component that is never initialized: `inside_begun`.
abbrev inner_part : Part
inner_part = record { of = 0; number = 1 }

abbrev outer_begun : BegunPart
outer_begun = record { treated = record { object = record { 0 = 0 }; part = record { of = 1; number = 0 } }; by = Creation }

never_initialized : FinalizationLaw controlled_shapes (whole_born ∷ []) → ⊥
never_initialized law = law.inside_begun [] [] whole_born outer_begun inner_part refl refl lies_in (1, omega arith, refl)

-- Assignments: the component and the whole are finalized, and come to exist again.
abbrev whole_cleared : Event
whole_cleared = Finalized it 0 0 1 2 (Assigning 3)

abbrev component_cleared : Event
component_cleared = Finalized it 1 0 0 1 (Assigning 3)

abbrev whole_adjusted : Event
whole_adjusted = Born it 0 1 1 4 (Adjustment 3)

abbrev component_adjusted : Event
component_adjusted = Born it 1 1 0 3 (Adjustment 3)

-- One that adjusts the whole before its component: `parts_first`.
adjusted_late : FinalizationLaw controlled_shapes (whole_adjusted ∷ component_adjusted ∷ []) → ⊥
adjusted_late law = law.parts_first 0 1 Quiet (omega arith) (omega arith) refl refl lies_in

-- One that finalizes the component before the whole: `wholes_first`.
cleared_early : FinalizationLaw controlled_shapes (component_cleared ∷ whole_cleared ∷ []) → ⊥
cleared_early law = law.wholes_first 0 1 Quiet (omega arith) (omega arith) refl refl lies_in

-- One that finalizes the whole after it has adjusted the component: `assigned_once`.
cleared_late : FinalizationLaw controlled_shapes (component_cleared ∷ component_adjusted ∷ whole_cleared ∷ whole_adjusted ∷ []) → ⊥
cleared_late law = law.assigned_once 1 2 Quiet (omega arith) (omega arith) refl

-- One that adjusts the whole and never the component: `inside_begun`.
abbrev outer_adjusted : BegunPart
outer_adjusted = record { treated = record { object = record { 0 = 0 }; part = record { of = 1; number = 0 } }; by = Adjustment 3 }

never_adjusted : FinalizationLaw controlled_shapes (whole_adjusted ∷ []) → ⊥
never_adjusted law = law.inside_begun [] [] whole_adjusted outer_adjusted inner_part refl refl lies_in (1, omega arith, refl)

-- A copy whose component is left as it was initialized: the same field.
abbrev outer_copied : BegunPart
outer_copied = record { treated = record { object = record { 0 = 0 }; part = record { of = 1; number = 0 } }; by = Copy }

abbrev birth_in : Birth → ℕ
birth_in Creation = 1
birth_in Copy = 2
birth_in (Adjustment number) = 3

abbrev by_in : Option BegunPart → ℕ
by_in None = 0
by_in (Some b) = birth_in b.by

half : Happened (λ e. begun_of e ≡ Some (record { treated = record { object = record { 0 = 0 }; part = inner_part }; by = Copy })) (component_born ∷ []) → ⊥
half (inl h) = let e = ap by_in h in omega (arith, e)
half (inr h) = absurd h

copied_by_half : FinalizationLaw controlled_shapes (component_born ∷ Born it 0 0 1 2 Copy ∷ []) → ⊥
copied_by_half law =
    half (law.inside_begun (component_born ∷ []) [] (Born it 0 0 1 2 Copy) outer_copied inner_part refl refl lies_in (1, omega arith, refl))

-- One that copies onto a value that has not been finalized, under its next turn: what comes to exist once more was not there, but it is never finalized
-- (`finalized_by_back`).
overwritten : Happened (Finalizes (component 0)) (component_born ∷ component_adjusted ∷ component_finalized 1 ∷ it_back ∷ []) → ⊥
overwritten (inl h) = let e = ap part_in h in omega (arith, e)
overwritten (inr (inl h)) = let e = ap part_in h in omega (arith, e)
overwritten (inr (inr (inl h))) = let e = ap turn_in h in omega (arith, e)
overwritten (inr (inr (inr (inl h)))) = let e = ap part_in h in omega (arith, e)
overwritten (inr (inr (inr (inr h)))) = absurd h

not_cleared : FinalizationLaw controlled_shapes (component_born ∷ component_adjusted ∷ component_finalized 1 ∷ it_back ∷ []) → ⊥
not_cleared law = overwritten (law.finalized_by_back (component 0) (inl refl) (inr (inr (inr (inl refl)))))

-- While a Finalize of the object runs, an operation of it runs: whether another part is left to be finalized, or the object ceases to exist next, or a record
-- is copied to it.
refuses_rest : NoOperationRunsOn it (frame.Confines ∷ frame.Treats it (frame.ends (Freeing 2)) (performs 0 1 ∷ []) ∷ frame.Ends it ∷ []) → ⊥
refuses_rest none = none.0 refl

refuses_end : NoOperationRunsOn it (frame.Confines ∷ frame.Ends it ∷ []) → ⊥
refuses_end none = none.0 refl

refuses_copy : NoOperationRunsOn it (frame.Confines ∷ frame.Copies 0 1 ∷ frame.StoresRecord it 0 1 ∷ []) → ⊥
refuses_copy none = none.0 refl

-- While it is initialized, too; and then it begins.
refuses_initialize : NoOperationRunsOn it (frame.Awaits it Creation [] 0 1 [] ∷ []) → ⊥
refuses_initialize none = none.0 refl

awaited_begins : NothingBegins it (frame.Awaits it Creation [] 0 1 [] ∷ []) → ⊥
awaited_begins none = none.0 refl

-- While it is assigned to, it is still to be adjusted.
adjusted_begins : NothingBegins it (frame.Copies 0 1 ∷ frame.StoresRecord it 0 1 ∷ frame.Treats it (frame.begins (Adjustment 3) []) (performs 0 1 ∷ []) ∷ []) → ⊥
adjusted_begins none = none.0 refl

-- The part for which an operation runs is not inside of that, nor is any part once the last one is finalized.
own_is_not_inside : IsInside controlled_shapes it 0 (frame.Awaits it Creation [] 1 0 [] ∷ []) → ⊥
own_is_not_inside inside = let lt = (inside.0 refl).behind in omega (arith, lt)

ended_is_not_inside : IsInside controlled_shapes it 0 (frame.Confines ∷ frame.Treats it (frame.ends (Freeing 2)) (performs 0 1 ∷ []) ∷ frame.Ends it ∷ []) → ⊥
ended_is_not_inside inside = elim (cons_cases 1 0 [] (inside.0 refl)) [ inl e ↦ absurd (omega (arith, e)) | inr more ↦ none_in 0 more ]

none_is_inside : IsInside controlled_shapes it 1 (frame.Confines ∷ frame.Ends it ∷ []) → ⊥
none_is_inside inside = none_in 1 (inside.0 refl)
