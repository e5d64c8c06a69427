-- The types of variables, and blocks that are left.

use Rattle.std.proofs.Common.{◌≡◌, ℕ, ◌+◌, ◌<◌, Bool, true, false, not, List, [], ◌∷◌, get_or, length, take, drop, map, Option, Some, None, refl, sym, ap, ◌∙◌}
use Rattle.std.specs.Prelude.{if◌then◌else◌}
use Rattle.std.proofs.Math.Seq.{drop-cons}
use Rattle.std.proofs.Common.{add-one}
use Rattle.ada_text.specs.declared.spot.Spot.{Spot}
use Rattle.ada_program.specs.declared.program.Variable.{Variable}
use Rattle.ada_program.specs.Form.{ExpressionForm}
use Rattle.ada_program.specs.ProgramForm.{VariableForm, variable_form}
use Rattle.ada_program.specs.WellFormed.{access_of}
use Rattle.ada_effects.specs.Effects.{Implicit}
use Rattle.ada_flow.specs.declared.marks.Marks.{Marks}
use Rattle.ada_flow.specs.declared.rule.Hold.{Hold}
use Rattle.ada_flow.specs.declared.rule.Rule.TheVariants.{LoopState}
use Rattle.ada_flow.specs.Flow.{Holds, Gone, faults, exit_flow, exit_of, if_own, is_among, without_types}
use Rattle.ada_flow.specs.Told.{AreMarks, exit_keeps, is_marked, without_marked}
use Rattle.ada_flow.specs.Tracking.{Tracks}

-- what has no type is not among types
pub among_none : (types : List ℕ) → is_among types None ≡ false
among_none [] = refl
among_none (t ∷ types) = among_none types

-- of marked types the marks tell whether a type is among them
marked_among : (marks : Marks) (types : List ℕ) (access : Option ℕ) → AreMarks marks types → is_marked marks access ≡ is_among types access
marked_among marks types None are = sym (among_none types)
marked_among marks types (Some t) are = are t

-- and what is left where their objects are gone
pub left_by_marks : (vs : List VariableForm) (marks : Marks) (types : List ℕ) (hs : Holds) → AreMarks marks types →
    without_marked vs marks hs ≡ without_types vs types hs
left_by_marks [] marks types hs are = refl
left_by_marks (v ∷ vs) marks types [] are = refl
left_by_marks (v ∷ vs) marks types (h ∷ hs) are =
    ap (λ (b : Bool). if_own (not b) h ∷ without_marked vs marks hs) (marked_among marks types (access_of (Some v.kind)) are)
    ∙ ap (λ (rest : Holds). if_own (not (is_among types (access_of (Some v.kind)))) h ∷ rest) (left_by_marks vs marks types hs are)

-- where no type's objects are gone, nothing is lost
pub left_alone : (vs : List Variable) (hs : Holds) → without_types (map variable_form vs) [] hs ≡ take (length vs) hs
left_alone [] hs = refl
left_alone (v ∷ vs) [] = refl
left_alone (v ∷ vs) (h ∷ hs) = ap (λ rest. h ∷ rest) (left_alone vs hs)

-- what is held beyond the variables is left out
pub left_short : (vs : List Variable) (marks : Marks) (hs : Holds) →
    without_marked (map variable_form vs) marks (take (length vs) hs) ≡ without_marked (map variable_form vs) marks hs
left_short [] marks hs = refl
left_short (v ∷ vs) marks [] = refl
left_short (v ∷ vs) marks (h ∷ hs) = ap (λ rest. if_own (not (is_marked marks (access_of (Some v.kind)))) h ∷ rest) (left_short vs marks hs)

-- where nothing is held, nothing is left
pub left_nothing : (vs : List Variable) (marks : Marks) → without_marked (map variable_form vs) marks [] ≡ []
left_nothing [] marks = refl
left_nothing (v ∷ vs) marks = refl

-- variable by variable
pub left_next : (vs : List Variable) (marks : Marks) (hs : Holds) (i : ℕ) (v : Variable) (h : Hold) → i < length vs → i < length hs →
    without_marked (map variable_form (drop i vs)) marks (drop i hs)
    ≡ if_own (not (is_marked marks (access_of (Some (get_or vs i v).kind)))) (get_or hs i h)
    ∷ without_marked (map variable_form (drop (i + 1) vs)) marks (drop (i + 1) hs)
left_next vs marks hs i v h a b = rw (add-one, drop-cons vs i v, drop-cons hs i h) refl

pub ruleset losing_steps = (left_short, left_nothing, left_next)

-- an exit with no less than is known at the loop's start does what its condition does
pub exit_stays : (vs : List VariableForm) (tracks : Tracks) (implicit : Implicit) (start : Option Holds) (inside : Gone) (condition : Option ExpressionForm) (spot : Spot) (hs : Holds) →
    exit_keeps vs implicit start inside hs ≡ true → exit_flow vs tracks implicit start inside condition spot hs ≡ exit_of tracks condition hs
exit_stays vs tracks implicit None inside condition spot hs keeps = refl
exit_stays vs tracks implicit (Some start) inside condition spot hs keeps = ap (λ (b : Bool). if b then exit_of tracks condition hs else faults spot LoopState) keeps

-- and one with less breaks a rule
pub exit_breaks : (vs : List VariableForm) (tracks : Tracks) (implicit : Implicit) (start : Option Holds) (inside : Gone) (condition : Option ExpressionForm) (spot : Spot) (hs : Holds) →
    exit_keeps vs implicit start inside hs ≡ false → exit_flow vs tracks implicit start inside condition spot hs ≡ faults spot LoopState
exit_breaks vs tracks implicit None inside condition spot hs keeps = cc
exit_breaks vs tracks implicit (Some start) inside condition spot hs keeps = ap (λ (b : Bool). if b then exit_of tracks condition hs else faults spot LoopState) keeps

pub ruleset exit_steps = (exit_stays, exit_breaks)

pub ruleset leaving_steps = (left_alone)
