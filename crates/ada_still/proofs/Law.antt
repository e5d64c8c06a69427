-- Whatever a run comes to sits in still bodies, or behind them: so nothing is treated while they have a collection open.

use Rattle.std.proofs.Common.{◌≡◌, inl, inr, ℕ, ℤ, Bool, true, false, List, [], ◌∷◌, ◌++◌, Some, None, refl, ap, ◌∙◌, subst}
use Rattle.std.specs.List.{slice_get}
use Rattle.ada_program.specs.declared.program.Program.{Program}
use Rattle.ada_program.specs.Form.{frees, a_stmt, declaration_forms, stmt_forms, handler_forms}
use Rattle.ada_program.specs.Freed.{FreesItsOwn}
use Rattle.ada_program.specs.ProgramForm.{BodyForm, body_forms, program_form}
use Rattle.ada_program.specs.WellFormed.{IsWellFormed}
use Rattle.ada_meaning.specs.declared.state.Id.{Id}
use Rattle.ada_meaning.specs.declared.state.Mode.TheVariants.{Running}
use Rattle.ada_meaning.specs.declared.state.Value.{Value}
use Rattle.ada_meaning.specs.Frame.{Frame}
use Rattle.ada_meaning.specs.Frame as frame
use Rattle.ada_meaning.specs.State.{Owned, declared, collection, record_object, storage_pool, Item, Master}
use Rattle.ada_meaning.specs.Named.{Object, State, object_at, next}
use Rattle.ada_meaning.specs.Run.{Event, Choice, Step, Run, here, there, first_state, run_more}
use Rattle.ada_order.proofs.Controls.{Plain, Stands, plainly, leaving}
use Rattle.ada_order.proofs.Orders.{Kept, kept_first, step_keeps}
use Rattle.ada_typed.specs.Freeing.{AboutToFree}
use Rattle.ada_typed.proofs.Freeing.{objects_are_freed_by_their_types}
use Rattle.ada_still.specs.Still.{CollectWhereStill}
use Rattle.ada_still.specs.Law.{IsOther, AreOther, NoneOpen, TreatsWhereNoneIsOpen, StandStillWhereStill}
use Rattle.ada_still.proofs.Coming.{led_next}
use Rattle.ada_still.proofs.Sits.{not_true, BodyFits, IsOwned, AreOwned, Sits, SomeRests, part_keeps}
use Rattle.ada_still.proofs.Steps.{FirstFreesIts, leaves_first, next_some}

-- A master that is being left first: no jump is on its way.
plain_first : (k : List (Frame Value)) (ms : List Master) → Plain None k ms → leaves_first k ≡ true → ⊥
plain_first [] ms plain is = cc is
plain_first (frame.Leaves mode ∷ k) ms plain is = plain
plain_first (f ∷ k) ms plain is = cc is

leaving_runs : (s : State) → Stands None s → leaves_first s.control ≡ true → s.mode ≡ Running
leaving_runs s (plainly plain) is = absurd (plain_first s.control s.masters plain is)
leaving_runs s (leaving runs going) is = runs

-- What is freed is of the type that the instance is for.
frees_its : (s : State) → ((access : ℕ) (o : Id) (x : Object) → AboutToFree s access o → object_at s.heap o ≡ Some x → x.cell.access ≡ access)
    → (k : List (Frame Value)) → s.control ≡ k → s.mode ≡ Running → FirstFreesIts k s.activations s.heap
frees_its s freed [] is runs = tt
frees_its s freed (frame.Does (a_stmt (frees access path) fs) ∷ k) is runs =
    λ alone o x names found. freed access o x (inl (record { path = path; fs = fs; k = k; runs = runs; begins = is; alone = alone; names = names })) found
frees_its s freed (frame.FreesIn access c ∷ k) is runs =
    λ at_o holder v finds holds held o x names found.
    freed access o x (inr (record { c = c; k = k; found = at_o; holder = holder; runs = runs; begins = is; finds = finds; holds = holds; names = held ∙ ap (λ (u : Value). Some u) names })) found
frees_its s freed (f ∷ k) is runs = tt

module _ (program : Program) (well : IsWellFormed (program_form program)) (frees_own : FreesItsOwn (program_form program)) (own still : ℕ → Bool)
    (collect : CollectWhereStill own still (program_form program)) (input : List ℤ) where
  fits : (procedure : ℕ) (body : BodyForm) → slice_get (body_forms program) procedure ≡ Some body → BodyFits (program_form program).types (body_forms program) still own false body
  fits procedure body at_body =
      elim (collect.bodies procedure body at_body) [
        | inl none ↦ inl none
        | inr is ↦ inr (collect.keeps procedure body at_body is)
      ]

  pub step_some : (events : List Event) (s after : State) (choice : Choice) (e : Event) → Run program (first_state program input) events s → Kept program.types.items s
      → SomeRests (program_form program).types (body_forms program) still own s → Step program s choice e after → SomeRests (program_form program).types (body_forms program) still own after
  step_some events s after choice e run kept rests step =
      led_next (SomeRests (program_form program).types (body_forms program) still own) (next program.types.items (body_forms program) s) choice e after
      (next_some (program_form program).types (body_forms program) still own rests.0 program.types.items refl fits collect.keeps s kept.counted (leaving_runs s kept.stands)
      (frees_its s (λ access o x about found. objects_are_freed_by_their_types program well frees_own input events s access o x run about found) s.control refl) rests.1) step

  run_some : (before : List Event) (s last : State) (events : List Event) → Run program (first_state program input) before s → Kept program.types.items s
      → SomeRests (program_form program).types (body_forms program) still own s → Run program s events last → SomeRests (program_form program).types (body_forms program) still own last
  run_some before s last events so_far kept rests here = rests
  run_some before s last (e ∷ events) so_far kept rests (there choice mid step rest) =
      run_some (before ++ e ∷ []) mid last events (run_more e choice mid so_far step) (step_keeps program s choice e mid kept step)
      (step_some before s mid choice e so_far kept rests step) rest

  pub first_some : SomeRests (program_form program).types (body_forms program) still own (first_state program input)
  first_some = (
    false,
    (
      (part_keeps (program_form program).types (body_forms program) still own false (declaration_forms program) (stmt_forms program) (handler_forms program) collect.main, (tt, tt)),
      λ o x at listed. absurd (cc at),
    ),
  )

  -- Whatever a run comes to sits in still bodies, or behind them.
  pub last_some : (events : List Event) (last : State) → Run program (first_state program input) events last → SomeRests (program_form program).types (body_forms program) still own last
  last_some events last run = run_some [] (first_state program input) last events here (kept_first program input) first_some run

module _ (program : Program) (own still : ℕ → Bool) where
  -- Behind all still bodies no collection of these types is open.
  owned_other : (owned : Owned) → IsOwned (program_form program).types (body_forms program) still own false owned → IsOther own owned
  owned_other (declared x) is = tt
  owned_other (collection access pool) is = not_true (own access) is
  owned_other (record_object t) is = not_true (own t) is
  owned_other (storage_pool declaration number) is = tt

  are_other : (is : List Item) → AreOwned (program_form program).types (body_forms program) still own false is → AreOther own is
  are_other [] owned = tt
  are_other (i ∷ is) owned = (owned_other i.owned owned.0, are_other is owned.1)

  pub none_open : (k : List (Frame Value)) (ms : List Master) → Sits (program_form program).types (body_forms program) still own false k ms → NoneOpen own ms
  none_open [] [] h = tt
  none_open [] (m ∷ ms) h = absurd h
  none_open (frame.Elaborates ds fs hs ∷ k) [] h = tt
  none_open (frame.Elaborates ds fs hs ∷ k) (m ∷ ms) h = (are_other m.items h.1.0, none_open k ms h.1.1)
  none_open (frame.Closes ∷ k) [] h = tt
  none_open (frame.Closes ∷ k) (m ∷ ms) h = (are_other m.items h.1.0, none_open k ms h.1.1)
  none_open (frame.Leaves mode ∷ k) [] h = tt
  none_open (frame.Leaves mode ∷ k) (m ∷ ms) h = (are_other m.items h.1.0, none_open k ms h.1.1)
  none_open (frame.Returns actuals references ∷ k) ms (any, inl h) = none_open k ms h
  none_open (frame.Returns actuals references ∷ k) ms (any, inr h) = none_open k ms h.1
  none_open (f ∷ k) ms h = none_open k ms h.1

  outside_open : (b : Bool) (k : List (Frame Value)) (ms : List Master) → b ≡ false → Sits (program_form program).types (body_forms program) still own b k ms → NoneOpen own ms
  outside_open b k ms outside h = none_open k ms (subst (λ (c : Bool). Sits (program_form program).types (body_forms program) still own c k ms) outside h)

  -- So objects are treated, and operations end, where none is open.
  pub sits_elsewhere : (b : Bool) (k : List (Frame Value)) (ms : List Master) → Sits (program_form program).types (body_forms program) still own b k ms → TreatsWhereNoneIsOpen own k ms
  sits_elsewhere b [] ms h = tt
  sits_elsewhere b (frame.Elaborates ds fs hs ∷ k) [] h = absurd h.1
  sits_elsewhere b (frame.Elaborates ds fs hs ∷ k) (m ∷ ms) h = (λ is. absurd (cc is), sits_elsewhere b k ms h.1.1)
  sits_elsewhere b (frame.Closes ∷ k) [] h = absurd h.1
  sits_elsewhere b (frame.Closes ∷ k) (m ∷ ms) h = (λ is. absurd (cc is), sits_elsewhere b k ms h.1.1)
  sits_elsewhere b (frame.Leaves mode ∷ k) [] h = absurd h.1
  sits_elsewhere b (frame.Leaves mode ∷ k) (m ∷ ms) h = (λ is. absurd (cc is), sits_elsewhere b k ms h.1.1)
  sits_elsewhere b (frame.Returns actuals references ∷ k) ms (any, inl h) = (λ is. absurd (cc is), sits_elsewhere b k ms h)
  sits_elsewhere b (frame.Returns actuals references ∷ k) ms (any, inr h) = (λ is. absurd (cc is), sits_elsewhere false k ms h.1)
  sits_elsewhere b (frame.Treats v treatment tasks ∷ k) ms h = (λ is. outside_open b k ms h.0 h.1, sits_elsewhere b k ms h.1)
  sits_elsewhere b (frame.Awaits v by done of part tasks ∷ k) ms h = (λ is. outside_open b k ms h.0 h.1, sits_elsewhere b k ms h.1)
  sits_elsewhere b (frame.Confines ∷ k) ms h = (λ is. outside_open b k ms h.0 h.1, sits_elsewhere b k ms h.1)
  sits_elsewhere b (f ∷ k) ms h = (λ is. absurd (cc is), sits_elsewhere b k ms h.1)

-- The law.
pub stand_still : StandStillWhereStill
stand_still program well frees_own own still collect input events last run =
    let rests = last_some program well frees_own own still collect input events last run in
    sits_elsewhere program own still rests.0 last.control last.masters rests.1.0
