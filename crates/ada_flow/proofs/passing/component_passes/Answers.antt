use Rattle.std.proofs.Common.{◌≡◌, ℕ, ◌+◌, ◌<◌, Bool, true, ◌||◌, List, get_or, length, map, drop, Option, sym, ap, ◌∙◌, arith}
use Rattle.std.proofs.lemmas.List.{at_drop_more}
use Rattle.ada_effects.specs.Found.{has_number}
use Rattle.ada_program.specs.declared.program.ComponentNo.{ComponentNo}
use Rattle.ada_program.specs.declared.program.VariableKind.{VariableKind}
use Rattle.ada_program.specs.Form.{component_number}
use Rattle.ada_program.specs.ProgramForm.{TypeForm, type_form}
use Rattle.ada_program.specs.WellFormed.{access_of, selected_kind}
use Rattle.ada_flow.specs.Flow.{is_freed, passes_freed}
use Rattle.ada_flow.proofs.passing.component_passes.Goals as goal

-- a path that follows a value of such a type passes it
passes_here : (types : List TypeForm) (may : ℕ → Bool) (kind : Option VariableKind) (cs : List ComponentNo) (i : ℕ) → i < length cs →
    is_freed may (access_of kind) ≡ true → passes_freed types may kind (map component_number (drop i cs)) ≡ true
passes_here types may kind cs i inside here =
    let first : ComponentNo = record { 0 = 0 } in
    at_drop_more (λ (ds : List ComponentNo). passes_freed types may kind (map component_number ds)) cs i first inside
    ∙ ap (λ (b : Bool). b || passes_freed types may (selected_kind types kind (get_or cs i first).0) (map component_number (drop (i + 1) cs))) here

pub returns-then-is_freed : goal.returns-then-is_freed
returns-then-is_freed c =
    let may = has_number c.args.freed.now in
    let here : is_freed may (access_of c.selectors.kind) ≡ true = ap (is_freed may) (sym c.access_of.ensures) ∙ sym c.is_freed.ensures ∙ c.if-is_freed.true in
    let inside : c.selectors.component-index < length c.args.path.now.selectors.items = omega (arith, ap length c.deref-component-items.ensures.value) in
    sym (passes_here (map type_form c.args.types.now) may c.selectors.kind c.args.path.now.selectors.items c.selectors.component-index inside here)
    ∙ c.selectors.invariant
