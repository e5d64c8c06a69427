-- What is known where the body of an operation begins (7.6).

use Rattle.std.proofs.Common.{◌≡◌, ℕ, zero, suc, Bool, true, false, List, [], ◌∷◌, drop, refl, sym, subst, ◌⊎◌, inl, inr}
use Rattle.std.specs.Prelude.{Some, ◌||◌, ◌&&◌, not}
use Rattle.std.specs.List.{list_all}
use Rattle.ada_parts.specs.Task.{Task}
use Rattle.ada_program.specs.declared.program.Exception.{Exception}
use Rattle.ada_program.specs.declared.program.VariableKind.{VariableKind}
use Rattle.ada_program.specs.declared.program.VariableKind.TheVariants as variable
use Rattle.ada_program.specs.Handling.{is_same, is_taken}
use Rattle.ada_program.specs.ProgramForm.{VariableForm, BodyForm, main_body, TypeForm}
use Rattle.ada_program.specs.WellFormed.{variable_kind}
use Rattle.ada_program.specs.Form.{StmtsForm, HandlersForm}
use Rattle.ada_effects.specs.Effects.{no_calls, no_implicit, untaken, declarations_raise, stmts_raise, handlers_raise, body_raises}
use Rattle.ada_meaning.specs.declared.state.Id.{Id}
use Rattle.ada_meaning.specs.declared.state.Value.{Value}
use Rattle.ada_meaning.specs.declared.state.Value.TheVariants.{Names}
use Rattle.ada_meaning.specs.declared.state.Stage.{Stage}
use Rattle.ada_meaning.specs.declared.state.Stage.TheVariants.{Building, Existing, Gone}
use Rattle.ada_meaning.specs.Heap.{finds}
use Rattle.ada_meaning.specs.Frame.{Treatment, begins, ends, Elaborates, Handles, Closes, Returns}
use Rattle.ada_meaning.specs.State.{Master}
use Rattle.ada_meaning.specs.Step.{blank, blanks, given_places}
use Rattle.ada_meaning.specs.Named.{Object, named, existing}
use Rattle.ada_owners.specs.Places.{is_there}
use Rattle.ada_typed.proofs.Kept.{behind_call, behind_treating}
use Rattle.ada_quiet.specs.Quiet.{is_elementary}
use Rattle.ada_sound.proofs.Fits.{place_at}
use Rattle.ada_sound.proofs.Invariant.{Control, IsAwaited}
use Rattle.ada_sound.proofs.Raising.{or_left, or_right, both, same_is, stmts_more}
use Rattle.ada_sound.proofs.Operating.{Sight, StaysLive, StaysIn, WaitsFor, Holds, Quietly, PlainBody, IsCalm}

-- Both of two.
pub apart : (a b : Bool) → (a && b) ≡ true → (a ≡ true) × (b ≡ true)
apart true b e = (refl, e)
apart false b e = absurd (cc e)

-- An object that exists is found.
pub found_by : (x : Object) (stage : Stage) → StaysLive stage → existing x stage ≡ finds x.cell
found_by x Building live = refl
found_by x Existing live = refl
found_by x Gone live = absurd live

-- What is looked for and found is there.
pub live_there : (stage : Stage) → StaysLive stage → is_there stage ≡ true
live_there Building live = refl
live_there Existing live = refl
live_there Gone live = absurd live

-- Integers and Booleans are blank at first.
blank_holds : (sight : Sight) (kind : VariableKind) → is_elementary kind ≡ true → Holds sight (Some kind) (blank named kind)
blank_holds sight variable.Integer e = tt
blank_holds sight variable.Boolean e = tt
blank_holds sight (variable.Access access) e = absurd (cc e)
blank_holds sight (variable.Record object) e = absurd (cc e)

blanks_hold : (sight : Sight) (vs : List VariableForm) → list_all (λ x. is_elementary x.kind) vs ≡ true → (y : ℕ) → Holds sight (variable_kind vs y) (place_at (blanks named vs) y)
blanks_hold sight [] all y = tt
blanks_hold sight (v ∷ vs) all zero = blank_holds sight v.kind (apart (is_elementary v.kind) (list_all (λ x. is_elementary x.kind) vs) all).0
blanks_hold sight (v ∷ vs) all (suc y) = blanks_hold sight vs (apart (is_elementary v.kind) (list_all (λ x. is_elementary x.kind) vs) all).1 y

pub places_hold : (sight : Sight) (variables : List VariableForm) (reference : Value) → list_all (λ x. is_elementary x.kind) (drop 1 variables) ≡ true → Holds sight (variable_kind variables 0) reference → (x : ℕ) → Holds sight (variable_kind variables x) (place_at (given_places named (reference ∷ []) variables) x)
places_hold sight [] reference all formal x = tt
places_hold sight (v ∷ vs) reference all formal zero = formal
places_hold sight (v ∷ vs) reference all formal (suc y) = blanks_hold sight vs all y

-- What a block raises its handlers take, or those around it.
pub block_stays : (sight : Sight) (fs : StmtsForm) (hs : HandlersForm) (k : Control) → ((e : Exception) → stmts_raise no_calls (untaken hs (is_same e)) fs ≡ true → StaysIn sight e k) → (e : Exception) → stmts_raise no_calls (is_same e) fs ≡ true → StaysIn sight e (Handles hs ∷ Closes ∷ k)
block_stays sight fs hs k passes e may = by (is_taken hs e) refl
  where
    by : (is : Bool) → is_taken hs e ≡ is → (is_taken hs e ≡ true) ⊎ StaysIn sight e k
    by true is = inl is
    by false is = inr (passes e (stmts_more no_calls tt fs (is_same e) (untaken hs (is_same e)) (λ f same. both (is_same e f) (not (is_taken hs f)) same (rw (← same_is e f same, is) refl)) may))

-- A plain body begins, in a master of its own.
pub starts : (sight : Sight) (b : BodyForm) → sight.program.variables ≡ b.variables → ((e : Exception) → body_raises no_calls b (is_same e) ≡ true → body_raises no_calls (main_body sight.program) (is_same e) ≡ true) → PlainBody sight.program.types b → (behind : Control) (m : Master) → Quietly sight behind (m ∷ []) (Elaborates b.declarations b.statements b.handlers ∷ Returns [] [] ∷ behind)
starts sight b same out plain behind m = (
  (
    rw same plain.declarations,
    (λ e may. out e (or_left (declarations_raise no_implicit (is_same e) b.declarations || stmts_raise no_calls (untaken b.handlers (is_same e)) b.statements) (handlers_raise no_calls (is_same e) b.handlers)
        (or_left (declarations_raise no_implicit (is_same e) b.declarations) (stmts_raise no_calls (untaken b.handlers (is_same e)) b.statements) may))),
    (
      rw same plain.statements,
      block_stays sight b.statements b.handlers (Returns [] [] ∷ behind)
          (λ e may. out e (or_left (declarations_raise no_implicit (is_same e) b.declarations || stmts_raise no_calls (untaken b.handlers (is_same e)) b.statements) (handlers_raise no_calls (is_same e) b.handlers)
          (or_right (declarations_raise no_implicit (is_same e) b.declarations) (stmts_raise no_calls (untaken b.handlers (is_same e)) b.statements) may))),
      λ leaves. let none = plain.none_out in absurd (cc (none, leaves)),
    ),
    (
      rw same plain.handlers,
      (λ e may. out e (or_right (declarations_raise no_implicit (is_same e) b.declarations || stmts_raise no_calls (untaken b.handlers (is_same e)) b.statements) (handlers_raise no_calls (is_same e) b.handlers) may)),
      λ leaves. let none = plain.none_on in absurd (cc (none, leaves)),
    ),
  ),
  ((refl, refl), refl, refl),
)

-- No operation but this one runs.
pub calm_behind : (types : List TypeForm) (o : Id) (of : ℕ) (treatment : Treatment) (tasks : List Task) (k behind : Control) → WaitsFor types o of treatment tasks k behind → IsCalm (behind_call k) → IsCalm (behind_call behind)
calm_behind types o of (begins by done) tasks k behind (part, is) calm = rw is calm
calm_behind types o of (ends cause) tasks k behind (is, inside) calm = rw (is, behind_treating (Names o) (ends cause) tasks k) calm

-- What waits for an operation is behind the end of its body.
pub is_awaited : (types : List TypeForm) (o : Id) (of : ℕ) (treatment : Treatment) (tasks : List Task) (k behind : Control) → WaitsFor types o of treatment tasks k behind → IsAwaited behind
is_awaited types o of (begins by done) tasks k behind (part, is) = subst IsAwaited (sym is) tt
is_awaited types o of (ends cause) tasks k behind (is, inside) = subst IsAwaited (sym is) tt
