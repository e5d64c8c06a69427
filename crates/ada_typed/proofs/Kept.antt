-- What a step keeps that neither begins a call nor ends one, whatever the state: the same body runs, and what waits for it stays as it is.

use Rattle.ada_typed.specs.Holding.{Cells, cells_of}
use Rattle.std.proofs.Common.{◌≡◌, ℕ, ◌+◌, ◌<◌, if◌then◌else◌, Bool, true, false, List, [], ◌∷◌, ◌++◌, Option, Some, None, refl, sym, ap, ◌∙◌, subst}
use Rattle.std.proofs.lemmas.List.{map-set}
use Rattle.std.specs.List.{slice_get, slice_set}
use Rattle.ada_program.specs.Form.{ActualForm}
use Rattle.ada_parts.specs.Task.{Task}
use Rattle.ada_meaning.specs.declared.state.Id.{Id}
use Rattle.ada_meaning.specs.declared.state.Value.{Value}
use Rattle.ada_meaning.specs.declared.state.Value.TheVariants.{Null, Names, Scalar, Part}
use Rattle.ada_meaning.specs.declared.state.Mode.{Mode}
use Rattle.ada_meaning.specs.Frame.{Frame, Treatment, is_return, Landing, passes_on, goes_behind, goes_in}
use Rattle.ada_meaning.specs.Frame as frame
use Rattle.ada_meaning.specs.State.{Activation}
use Rattle.ada_meaning.specs.Step.{procedure_of, treating, halts, moves, tells, asks, picks, older, with_places, with_operands, operands, places, popped, jumping, put, stored_from}
use Rattle.ada_meaning.specs.Named.{Object, State, Next, named, changed, filled, on_object, store}
use Rattle.ada_typed.proofs.Values.{StayDesignated, designated_more, designated_set}
use Rattle.ada_typed.proofs.Control.{actuals_at, references_at}
use Rattle.ada_typed.proofs.Evaluations.{cell_at, cells_more}

-- A call ends with these actual parameters, and this is left to do behind it.
pub record Behind : Type 0 where
  pub actuals : List ActualForm
  pub references : List Value
  pub left : List (Frame Value)

-- What is left to do behind the body that runs (6.4): nothing waits for it, or this does.
abbrev pub behind_call : List (Frame Value) → Option Behind
behind_call [] = None
behind_call (f ∷ k) = if is_return f then Some (record { actuals = actuals_at f; references = references_at f; left = k }) else behind_call k

-- Does a call begin at this frame, or end?
abbrev pub crosses : Frame Value → Bool
crosses (frame.Calls procedure b actuals) = true
crosses (frame.Returns actuals references) = true
crosses f = false

-- Is an object treated next?
abbrev pub is_treatment : Frame Value → Bool
is_treatment (frame.Treats v treatment tasks) = true
is_treatment f = false

-- From one state to the other the same body runs, and what waits for it stays as it is; names stay those of objects of their access types.
pub record Keeps (s after : State) : Type 0 where
  pub stay : StayDesignated (cells_of s.heap) (cells_of after.heap)
  pub procedure : procedure_of after.activations ≡ procedure_of s.activations
  pub suspended : older after.activations ≡ older s.activations
  pub behind : behind_call after.control ≡ behind_call s.control

-- Whatever comes next is as this says.
abbrev pub Each : (State → Type 0) → Next → Type 0
Each After (halts halt) = Unit {0}
Each After (moves e s) = After s
Each After (tells request e s) = After s
Each After (asks request answers) = (granted : Bool) → After (answers granted)
Each After (picks n taking) = (i : ℕ) → i < n → After (taking i)

pub keeps_all : (s mid after : State) → Keeps s mid → Keeps mid after → Keeps s after
keeps_all s mid after f g = record {
  stay = λ access o h. g.stay access o (f.stay access o h);
  procedure = g.procedure ∙ f.procedure;
  suspended = g.suspended ∙ f.suspended;
  behind = g.behind ∙ f.behind;
}

pub each_after : (s mid : State) (n : Next) → Keeps s mid → Each (Keeps mid) n → Each (Keeps s) n
each_after s mid (halts halt) f g = tt
each_after s mid (moves e after) f g = keeps_all s mid after f g
each_after s mid (tells request e after) f g = keeps_all s mid after f g
each_after s mid (asks request answers) f g = λ granted. keeps_all s mid (answers granted) f (g granted)
each_after s mid (picks n taking) f g = λ i lt. keeps_all s mid (taking i) f (g i lt)

-- A treatment comes before what is left.
pub behind_treating : (v : Value) (treatment : Treatment) (tasks : List Task) (k : List (Frame Value)) → behind_call (treating v treatment tasks k) ≡ behind_call k
behind_treating v treatment [] k = refl
behind_treating v treatment (task ∷ tasks) k = refl

-- Names stay.
stay_changed : (change : Object → Object) (at_o : Option Object) (xs : List Object) (o : Id) → ((x : Object) → (change x).cell.access ≡ x.cell.access) → slice_get xs o.0 ≡ at_o → StayDesignated (cells_of xs) (cells_of (changed change at_o xs o))
stay_changed change None xs o keeps is = λ access i h. h
stay_changed change (Some x) xs o keeps is =
    subst (λ (cells : Cells). StayDesignated (cells_of xs) cells) (sym (map-set (λ (y : Object). y.cell) xs o.0 (change x)))
    (designated_set (cells_of xs) o.0 x.cell (change x).cell (cell_at xs o.0 x is) (keeps x))

pub stay_on : (change : Object → Object) (xs : List Object) (v : Value) → ((x : Object) → (change x).cell.access ≡ x.cell.access) → StayDesignated (cells_of xs) (cells_of (on_object change xs v))
stay_on change xs Null keeps = λ access i h. h
stay_on change xs (Names o) keeps = stay_changed change (slice_get xs o.0) xs o keeps refl
stay_on change xs (Scalar v) keeps = λ access i h. h
stay_on change xs (Part o place) keeps = λ access i h. h

pub stay_stored : (xs : List Object) (o : Value) (c : ℕ) (v : Value) → StayDesignated (cells_of xs) (cells_of (store xs o c v))
stay_stored xs o c v = stay_on (filled c v) xs o (λ x. refl)

pub stay_stored_from : (xs : List Object) (o : Value) (c : ℕ) (vs : List Value) → StayDesignated (cells_of xs) (cells_of (stored_from named xs o c vs))
stay_stored_from xs o c [] = λ access i h. h
stay_stored_from xs o c (v ∷ vs) = λ access i h. stay_stored_from (store xs o c v) o (c + 1) vs access i (stay_stored xs o c v access i h)

pub stay_more : (xs : List Object) (x : Object) → StayDesignated (cells_of xs) (cells_of (xs ++ x ∷ []))
stay_more xs x = subst (λ (cells : Cells). StayDesignated (cells_of xs) cells) (sym (cells_more xs x)) (designated_more (cells_of xs) x.cell)

-- The running activation has other operands, or other variables: it is that of the same body, and the others stay.
pub procedure_operands : (vs : List Value) (acts : List (Activation Value)) → procedure_of (with_operands vs acts) ≡ procedure_of acts
procedure_operands vs [] = refl
procedure_operands vs (a ∷ suspended) = refl

pub older_operands : (vs : List Value) (acts : List (Activation Value)) → older (with_operands vs acts) ≡ older acts
older_operands vs [] = refl
older_operands vs (a ∷ suspended) = refl

pub procedure_places : (vs : List Value) (acts : List (Activation Value)) → procedure_of (with_places vs acts) ≡ procedure_of acts
procedure_places vs [] = refl
procedure_places vs (a ∷ suspended) = refl

pub older_places : (vs : List Value) (acts : List (Activation Value)) → older (with_places vs acts) ≡ older acts
older_places vs [] = refl
older_places vs (a ∷ suspended) = refl

-- How states change.
pub still : {s after : State} → after.heap ≡ s.heap → after.activations ≡ s.activations → behind_call after.control ≡ behind_call s.control → Keeps s after
still {s} {after} heap acts behind = record {
  stay = subst (λ (xs : List Object). StayDesignated (cells_of s.heap) (cells_of xs)) (sym heap) (λ access i h. h);
  procedure = ap procedure_of acts;
  suspended = ap older acts;
  behind = behind;
}

pub operated : {s after : State} (vs : List Value) → after.heap ≡ s.heap → after.activations ≡ with_operands vs s.activations → behind_call after.control ≡ behind_call s.control → Keeps s after
operated {s} {after} vs heap acts behind = record {
  stay = subst (λ (xs : List Object). StayDesignated (cells_of s.heap) (cells_of xs)) (sym heap) (λ access i h. h);
  procedure = ap procedure_of acts ∙ procedure_operands vs s.activations;
  suspended = ap older acts ∙ older_operands vs s.activations;
  behind = behind;
}

pub placed : {s after : State} (vs : List Value) → after.heap ≡ s.heap → after.activations ≡ with_places vs s.activations → behind_call after.control ≡ behind_call s.control → Keeps s after
placed {s} {after} vs heap acts behind = record {
  stay = subst (λ (xs : List Object). StayDesignated (cells_of s.heap) (cells_of xs)) (sym heap) (λ access i h. h);
  procedure = ap procedure_of acts ∙ procedure_places vs s.activations;
  suspended = ap older acts ∙ older_places vs s.activations;
  behind = behind;
}

pub altered : {s after : State} → StayDesignated (cells_of s.heap) (cells_of after.heap) → after.activations ≡ s.activations → behind_call after.control ≡ behind_call s.control → Keeps s after
altered stay acts behind = record { stay = stay; procedure = ap procedure_of acts; suspended = ap older acts; behind = behind }

pub popped_keeps : (s : State) → Keeps s (popped s)
popped_keeps s = operated (older (operands s)) refl refl refl

pub jumping_keeps : (mode : Mode) (s : State) → Keeps s (jumping mode s)
jumping_keeps mode s = operated [] refl refl refl

pub put_keeps : (x : ℕ) (v : Value) (s : State) → Keeps s (put x v s)
put_keeps x v s = placed (slice_set (places s) x v) refl refl refl
